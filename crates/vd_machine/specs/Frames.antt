-- A frame whose innermost list has a next statement, is a loop's body, or is the function's.
use Rattle.std.specs.Prelude.{◌≡◌, ◌<◌, ◌+◌, ◌⊎◌, Bool, true, List, [], length}
use Rattle.vd_machine.specs.declared.frame.Frame.{Frame}
use Rattle.vd_clight.specs.declared.program.Program.{Program}
use Rattle.vd_clight.specs.declared.typed.TStmt.{TStmt, TStmt-F}
use Rattle.vd_mem.specs.Memory.{Block}
use Rattle.vd_machine.specs.declared.frame.Thread.{Thread as KeptThread}
use Rattle.vd_machine.specs.declared.statement.Did.{Did}
use Rattle.vd_machine.specs.Kept.{frame_of, thread_of, callers_of, step_by, Keeps}
use Rattle.vd_machine.specs.Step.{Step, act}

abbrev pub IsSettled : Frame → Type 0
IsSettled f = (f.level.is_loop ≡ true) ⊎ ((f.level.at < length f.level.list.now) ⊎ (f.below.items ≡ []))

-- a frame past its next statement
abbrev pub passed : Frame → Frame
passed f = record f { level = record f.level { at = f.level.at + 1 } }

-- the step of a thread that runs a statement, by what the statement is
abbrev pub acted : Program → Bool → TStmt-F TStmt → KeptThread → List Block → Step
acted p pick s t m = act p pick s (frame_of (passed t.top)) (callers_of t.waiting.items) m

-- what was done is the step, and leaves what it has to leave
pub record Does (step : Step) (before after : KeptThread) (memory memory' : List Block) (did : Did) : Type 0 where
  pub is : step_by did after memory' ≡ step
  pub keeps : Keeps did (thread_of after ≡ thread_of before) (memory' ≡ memory)

-- nothing happened
pub record Same (before after : KeptThread) (memory memory' : List Block) : Type 0 where
  pub thread : thread_of after ≡ thread_of before
  pub blocks : memory' ≡ memory
