use Rattle.std.proofs.Common.{Option, Some, None, MatchOption, IsTrue, ◌↔◌, refl, sym, subst}
use Rattle.std.proofs.lemmas.Bool.{false≢true}
use Rattle.std.specs.Option.{is_some}
use Rattle.vd_outline.specs.declared.outline.TextKind.{TextKind}
use Rattle.vd_outline.specs.Outline.{Bytes, HasHead}
use Rattle.vd_scopes.specs.Answers.{HasSomeHead}
use Rattle.vd_scopes.proofs.verdict.has_head.Goals as goal

has_some_head : (text : Bytes) (o : Option (TextKind × Bytes)) → MatchOption o ((kind : TextKind) (name : Bytes) → HasHead text kind name → ⊥) (λ h. HasHead text h.0 h.1) → IsTrue (is_some o) ↔ HasSomeHead text
has_some_head text None none = (λ t. absurd (false≢true t), λ h. absurd (none h.0 h.1 h.2))
has_some_head text (Some at) head = (λ t. (at.0, at.1, head), λ h. refl)

pub returns : goal.returns
returns c = subst (λ b. IsTrue b ↔ HasSomeHead c.args.text.now) (sym c.is_some.ensures) (has_some_head c.args.text.now c.in_ok-head_of.field-0 c.in_ok-head_of.ensures)
