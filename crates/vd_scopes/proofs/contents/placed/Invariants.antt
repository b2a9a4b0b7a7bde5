use Rattle.std.proofs.Common.{◌≡◌}
use Rattle.vd_scopes.specs.Head.{placed}
use Rattle.vd_scopes.proofs.contents.placed.Given as goal

abbrev pub invariant-loop-mention : goal.invariant-loop-mention
invariant-loop-mention l = l.found ≡ placed l.at l.yielded
