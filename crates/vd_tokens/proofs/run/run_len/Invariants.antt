use Rattle.std.proofs.Common.{◌≤◌, ◌-◌, length, take}
use Rattle.vd_tokens.specs.Bytes.{AllBytes}
use Rattle.vd_tokens.specs.Head.{passes}
use Rattle.vd_tokens.proofs.run.run_len.Given as goal

abbrev pub invariant-run : goal.invariant-run
invariant-run l = (l.n ≤ length l.bytes) × AllBytes (passes l.run) (take l.n l.bytes)

abbrev pub decreases-run : goal.decreases-run
decreases-run l = length l.bytes - l.n
