-- What the kept threads of a machine stand for, and what a turn of them did.
use Rattle.std.specs.Prelude.{◌≡◌, ℕ, ◌+◌, ◌≤◌, List, Option, length, map}
use Rattle.vd_mem.specs.Memory.{Block}
use Rattle.vd_machine.specs.declared.frame.Thread.{Thread as KeptThread}
use Rattle.vd_machine.specs.declared.turn.Turned.{Turned as KeptTurned}
use Rattle.vd_machine.specs.declared.turn.Turned.TheVariants as kept
use Rattle.vd_machine.specs.Kept.{slot_of}
use Rattle.vd_machine.specs.Run.{Turned, Next, Waiting, Resting, Finished, Failed, set_thread}
use Rattle.vd_machine.specs.Thread.{System, Ended}

abbrev pub system_of : List (Option KeptThread) → List Block → System
system_of ts m = record { threads = map slot_of ts; memory = m }

abbrev pub turned_by : KeptTurned → System → Turned
turned_by kept.Moved s = Next s
turned_by kept.Waiting s = Waiting
turned_by kept.Resting s = Resting
turned_by (kept.Finished v) s = Finished v
turned_by (kept.Failed c) s = Failed c

-- the state after a turn that is no step to another one
abbrev pub Leaves : KeptTurned → ℕ → System → System → Type 0
Leaves kept.Moved n before after = Unit {0}
Leaves kept.Waiting n before after = after ≡ before
Leaves kept.Resting n before after = after ≡ before
Leaves (kept.Finished v) n before after = after ≡ set_thread before n Ended
Leaves (kept.Failed c) n before after = after ≡ before

-- no more blocks and threads than steps were made
pub record Counted (s : System) (steps : ℕ) : Type 0 where
  pub blocks : length s.memory ≤ steps
  pub threads : length s.threads ≤ steps + 1
