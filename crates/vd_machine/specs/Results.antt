-- Parts of private contracts: answers changed where they are values, and a path walked in part.
use Rattle.std.specs.Prelude.{◌≡◌, ℕ, ◌+◌, ◌*◌, List, ◌++◌, drop, ℤ, pos, negsuc, ◌≤ℤ◌, Result, Ok, Err}
use Rattle.vd_clight.specs.declared.program.GlobalDef.{GlobalDef}
use Rattle.vd_clight.specs.declared.typed.Part.{Part, fold-Part}
use Rattle.vd_machine.specs.declared.answer.Cause.{Cause}
use Rattle.vd_machine.specs.Arithmetic.{Evaluated}
use Rattle.vd_machine.specs.Evaluation.{Temps, moved, on_ok, part_layer, expression_layer, place_layer}
use Rattle.vd_mem.specs.declared.value.Value.{Value}

abbrev pub result_map : {A B E : Type 0} → (A → B) → Result A E → Result B E
result_map f (Ok x) = Ok (f x)
result_map f (Err e) = Err e

-- after i parts of a path from an offset on the offset is z
pub record Walked (parts : List (Result ℤ Cause)) (from i : ℕ) (z : ℤ) : Type 0 where
  pub same : (b : ℕ) → moved b (pos from) parts ≡ moved b z (drop i parts)
  pub low : negsuc (4294967296 * (i + 1)) ≤ℤ z
  pub high : z ≤ℤ pos (4294967296 * (i + 1))

-- values put before those that follow
abbrev pub onto : List Value → Result (List Value) Cause → Result (List Value) Cause
onto vs r = on_ok r (λ us. Ok (vs ++ us))

-- how far a part of a path moves
unfoldable pub part_moves : List GlobalDef → Temps → Part → Result ℤ Cause
part_moves globals t = fold-Part (Result ℤ Cause) Evaluated Evaluated part_layer (expression_layer t) (place_layer globals t)
