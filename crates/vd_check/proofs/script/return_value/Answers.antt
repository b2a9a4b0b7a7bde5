use Rattle.std.proofs.Common.{sym}
use Rattle.vd_check.specs.Value.{value}
use Rattle.vd_check.proofs.Returns.{return_with-met, return_with-unmet, return_with-unproved}
use Rattle.vd_check.proofs.script.return_value.Goals as goal
use Rattle.vd_check.proofs.script.return_value.Goals.{else-found-via-then-found+else-meets, else-found-via-else-found}

pub returns-then-meets : goal.returns-then-meets
returns-then-meets c = return_with-met c.args.post.now (value c.args.locals.now c.args.e.now) c.in-Some.found c.in-Some.ensures c.if-found.true (sym c.if-meets.ensures)

pub returns-else-found : goal.returns-else-found
returns-else-found c = elim c.else-found.branch [
  | else-found-via-then-found+else-meets w ↦ return_with-unmet c.args.post.now (value c.args.locals.now c.args.e.now) c.in-Some.found c.in-Some.ensures w.if-found.true (sym w.if-meets.ensures)
  | else-found-via-else-found w ↦ return_with-unproved c.args.post.now (value c.args.locals.now c.args.e.now) c.in-Some.found c.in-Some.ensures w.if-found.false
]
