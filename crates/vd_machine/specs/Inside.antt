-- What the fields of a machine stand for, and what is true of them.
use Rattle.std.specs.Prelude.{◌≡◌, ℕ, ◌+◌, ◌-◌, ◌<◌, ◌≤◌, ◌^◌, true, false, List, ◌++◌, Option, length, map, take, replicate}
use Rattle.vd_clight.specs.declared.program.GlobalDef.{GlobalDef}
use Rattle.vd_mem.specs.declared.value.Value.TheVariants.{Int}
use Rattle.vd_mem.specs.declared.value.Cell.TheVariants.{Data}
use Rattle.vd_machine.specs.Start.{init_value}
use Rattle.vd_machine.specs.Step.{room}
use Rattle.vd_clight.specs.declared.program.Program.{Program}
use Rattle.vd_mem.specs.Memory.{Block}
use Rattle.vd_machine.specs.declared.answer.End.{End}
use Rattle.vd_machine.specs.declared.frame.Thread.{Thread}
use Rattle.vd_machine.specs.Machine.{Machine}
use Rattle.vd_machine.specs.Room.{AreReady, function_depth}
use Rattle.vd_machine.specs.Turns.{system_of}

abbrev pub machine_of : Program → List (Option Thread) → List Block → End → ℕ → Machine
machine_of p ts m e n = record { program = p; system = system_of ts m; finish = e; steps = n }

-- there is room for each function's frames, no more blocks and threads than steps were made, and each thread is ready; steps stay countable
pub record IsSound (p : Program) (rooms : List ℕ) (ts : List (Option Thread)) (m : List Block) (steps : ℕ) : Type 0 where
  pub globals : length p.globals < 2 ^ 30
  pub rooms_are : rooms ≡ map function_depth p.fns
  pub blocks : length m ≤ steps
  pub few : steps ≤ 2 ^ 31
  pub count : length ts ≤ steps + 1
  pub ready : AreReady ts

-- the block of a global after its first i initial values
abbrev pub partly : List GlobalDef → GlobalDef → ℕ → Block
partly globals g i = record {
  cells = map (λ x. Data (init_value globals x)) (take i g.init) ++ replicate (room g.cells - i) (Data (Int 0));
  is_live = true;
  is_heap = false;
}
