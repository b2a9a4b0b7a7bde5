-- What the names of a program are, as the code keeps them.
use Rattle.std.specs.Prelude.{ℕ, Bool, map}
use Rattle.vd_clight.specs.declared.program.Program.{Program}
use Rattle.vd_clight.specs.declared.typed.Part.{Part, fold-Part}
use Rattle.vd_clight.specs.Whole.{whole_part, whole_expression, whole_place}
use Rattle.vd_singles.specs.Table.{IsTable}
use Rattle.vd_whole.specs.declared.whole.Names.{Names}

-- The names are those of the program's functions, with how many parameters each has, and of its globals, with their cells.
pub record AreNames (n : Names) : Type 0 where
  pub functions : IsTable n.functions (map (λ f. (f.name, f.params)) n.program.now.fns)
  pub globals : IsTable n.globals (map (λ g. (g.name, g.cells)) n.program.now.globals)

-- a step of an address, in a function of so many parameters and temporaries
unfoldable pub is_whole_part : Program → ℕ → Part → Bool
is_whole_part p temps = fold-Part Bool Bool Bool whole_part (whole_expression temps) (whole_place p temps)
