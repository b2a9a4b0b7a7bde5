use Rattle.std.proofs.Common.{subst}
use Rattle.vd_outline.specs.Outline.{Bytes, HasHead}
use Rattle.vd_outline.proofs.outline.head_of.Goals as goal

pub returns-in-None : goal.returns-in-None
returns-in-None c =
    let none = rw c.in-None.is at c.in_ok-kind.ensures in
    subst (λ t. (kind : _) (name : Bytes) → HasHead t kind name → ⊥) c.as_bytes.ensures none
