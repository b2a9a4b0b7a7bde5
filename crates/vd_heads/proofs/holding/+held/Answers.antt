use Rattle.std.proofs.Common.{sym, ◌∙◌, ap, inl, inr}
use Rattle.vd_heads.specs.Held.{held}
use Rattle.vd_heads.proofs.HeldLaws.{held-Struct, held-Array, held-Void, held-Int, held-Unsigned, held-Lock, held-Pointer}
use Rattle.vd_heads.proofs.holding.+held.Goals as goal

pub returns-in-Struct : goal.returns-in-Struct
returns-in-Struct t c = sym (ap held c.in-Struct.is ∙ held-Struct c.in-Struct.name)

pub returns-in-Array : goal.returns-in-Array
returns-in-Array t c = c.held.ensures ∙ (ap held c.get.ensures ∙ sym (ap held c.in-Array.is ∙ held-Array c.in-Array.of c.in-Array.field-1))

pub returns-in-Void : goal.returns-in-Void
returns-in-Void t c = sym (elim c.in-Void.is [
  | inl e ↦ ap held e ∙ held-Void
  | inr (inl e) ↦ ap held e ∙ held-Int
  | inr (inr (inl e)) ↦ ap held e ∙ held-Unsigned
  | inr (inr (inr (inl e))) ↦ ap held e ∙ held-Lock
  | inr (inr (inr (inr e))) ↦ ap held e.1 ∙ held-Pointer e.0
])
