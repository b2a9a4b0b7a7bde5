use Rattle.std.proofs.Common.{length, ◌≤◌}
use Rattle.vd_cgrammar.specs.Levels.{Climbing}
use Rattle.vd_cgrammar.proofs.grouping.+climb.Given as goal

abbrev pub decreases-climb : goal.decreases-climb
decreases-climb l = length l.others.now

abbrev pub invariant-rest : goal.invariant-rest
invariant-rest l = Climbing l.least l.fn.first l.fn.others l.found l.others × (length l.others ≤ length l.fn.others)

abbrev pub decreases-rest : goal.decreases-rest
decreases-rest l = length l.others
