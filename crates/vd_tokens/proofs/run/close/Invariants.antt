use Rattle.std.proofs.Common.{◌≡◌, false, suc, take}
use Rattle.vd_tokens.specs.Text.{has_close}
use Rattle.vd_tokens.proofs.run.close.Given as goal

abbrev pub invariant-loop-n : goal.invariant-loop-n
invariant-loop-n l = has_close (take (suc l.n) l.bytes) ≡ false
