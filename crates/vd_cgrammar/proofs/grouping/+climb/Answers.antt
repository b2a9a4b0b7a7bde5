use Rattle.std.proofs.Common.{arith, ◌∙◌, ap}
use Rattle.vd_cgrammar.specs.Syntax.{operated}
use Rattle.vd_cgrammar.proofs.Roots.{climbing_start, climbing_turn}
use Rattle.vd_cgrammar.proofs.grouping.+climb.Goals as goal

pub rest-init : goal.rest-init
rest-init t c = (rw c.hold-found.ensures (climbing_start c.args.least c.args.first c.args.others.now), omega arith)

pub rest-preserved : goal.rest-preserved
rest-preserved t c = (
  climbing_turn c.args.least c.args.first c.args.others.now c.rest.found c.rest.others c.in-Some.next.now c.remove-kind.result c.level_of-level.result
      c.in_ok-right.right c.hold-found-in-rest.result c.remove-kind.new.self c.climb.new.others
      c.rest.invariant.0 c.in-Some.ensures.value c.remove-kind.ensures.item c.remove-kind.ensures.rest c.level_of-level.ensures.level c.if-level-least.false
      c.in_ok-right.ensures.climbs (c.hold-found-in-rest.ensures ∙ (c.in_ok-operated.ensures ∙ ap (λ y. operated c.remove-kind.result.0 y c.in_ok-right.right) c.out-in-rest.ensures)),
  grind (arith, c.in_ok-right.ensures.no_longer),
)
