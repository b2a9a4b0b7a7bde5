-- What a clause sees of a gate, and of all its passes together.
use Rattle.std.specs.Prelude.{◌≡◌, ℕ, ◌<◌, List}
use Rattle.std.specs.List.{Contains}
use Rattle.vd_gate.specs.declared.pass.GatePass.{GatePass}
use Rattle.vd_gate.specs.declared.gate.Gate.{Gate}
use Rattle.vd_gate.specs.Passes.{base_of, number_of, made_of, IsFree, HasListFor}

module _ {S E : Type 0} where
  -- the base that the gate was made with
  abbrev pub base_at : Gate S E → ℕ
  base_at g = g.table.shared.key

  -- the pass is of this gate
  abbrev pub IsPassOf : Gate S E → GatePass S E → Type 0
  IsPassOf g p = (p.seat.table_id ≡ g.table.shared.table_id) × (base_of p ≡ base_at g)

  -- these passes answer for all that were made: they are of this gate and in no turn, number 0 is among them, and each number below its `made` has a list.
  -- The last is asked of every pass of number 0: a gate makes one, but that is known to its rule alone
  pub record AreAllPasses (g : Gate S E) (passes : List (GatePass S E)) : Type 0 where
    pub free : (p : GatePass S E) → Contains passes p → IsPassOf g p × IsFree p
    pub first : (p : GatePass S E) × Contains passes p × (number_of p ≡ 0)
    pub lists : (p : GatePass S E) → Contains passes p → number_of p ≡ 0 → (n : ℕ) → n < made_of p → HasListFor passes n

  -- the pass at place i, where as many passes as were made stand in the order of their numbers
  pub record IsSeat (g : Gate S E) (count i : ℕ) (p : GatePass S E) : Type 0 where
    pub of_gate : IsPassOf g p
    pub free : IsFree p
    pub number : number_of p ≡ i
    pub made : i ≡ 0 → made_of p ≡ count
