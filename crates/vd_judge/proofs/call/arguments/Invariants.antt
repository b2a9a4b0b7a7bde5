use Rattle.std.proofs.Common.{◌≡◌, drop, []}
use Rattle.vd_judge.specs.Checked.{fine}
use Rattle.vd_judge.specs.CheckedCall.{arguments}
use Rattle.vd_judge.proofs.call.arguments.Given as goal

-- what is passed, then the rest, is the whole
abbrev pub invariant-loop-k : goal.invariant-loop-k
invariant-loop-k l = arguments l.scope l.params l.k l.all (drop l.k l.args) ≡ arguments l.scope l.params 0 (fine []) l.args
