-- Steps that may take memory.
use Rattle.std.specs.Prelude.{ℕ, Bool, true, false, Option, None, Some, slice_get}
use Rattle.vd_clight.specs.declared.typed.TStmt.{TStmt, TStmt-F}
use Rattle.vd_clight.specs.declared.typed.TStmt.TheOpen as statement
use Rattle.vd_clight.specs.declared.typed.LockOp.TheVariants as lock
use Rattle.vd_machine.specs.declared.answer.End.{End}
use Rattle.vd_machine.specs.declared.answer.End.TheVariants as finish
use Rattle.vd_machine.specs.Machine.{Machine}
use Rattle.vd_machine.specs.Thread.{Thread, Ended, Running, Focus, next}

-- a statement that may write a cell for the first time, or that makes a block, a frame or a thread
abbrev pub takes_memory : TStmt-F TStmt → Bool
takes_memory (statement.Store l e) = true
takes_memory (statement.Call x f es) = true
takes_memory (statement.Malloc x n) = true
takes_memory (statement.Lock lock.Make e) = true
takes_memory (statement.Spawn f e) = true
takes_memory _ = false

abbrev pub focus_takes_memory : Focus → Bool
focus_takes_memory f = takes_memory f.statement

abbrev pub thread_takes_memory : Option Thread → Bool
thread_takes_memory None = false
thread_takes_memory (Some Ended) = false
thread_takes_memory (Some (Running fr cs)) = focus_takes_memory (next fr)

abbrev pub takes_memory_at : End → Option Thread → Bool
takes_memory_at finish.Open t = thread_takes_memory t
takes_memory_at _ t = false

-- the next statement of the thread of a number may take memory, and the run has not ended
abbrev pub turn_takes_memory : Machine → ℕ → Bool
turn_takes_memory w n = takes_memory_at w.finish (slice_get w.system.threads n)

-- a statement that makes a thread
abbrev pub is_spawn : TStmt-F TStmt → Bool
is_spawn (statement.Spawn f e) = true
is_spawn _ = false

abbrev pub thread_spawns : Option Thread → Bool
thread_spawns None = false
thread_spawns (Some Ended) = false
thread_spawns (Some (Running fr cs)) = is_spawn (next fr).statement
