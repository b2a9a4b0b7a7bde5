-- What texts say, one after the other.
use Rattle.std.proofs.Common.{◌≡◌, ◌<◌, ◌+◌, ℕ, List, [], ◌∷◌, ◌++◌, length, get_or, take, ap, sym, ◌∙◌, subst}
use Rattle.std.proofs.lemmas.List.{take_more}
use Rattle.vd_heads.specs.declared.content.Part.{Part}
use Rattle.vd_heads.specs.Declaration.{Bytes}
use Rattle.vd_scopes.specs.Head.{AreParts, IsPart, no_part, one_more}

parts_more : {texts : List Bytes} {ps : List Part} (text : Bytes) (p : Part) → IsPart text p → AreParts texts ps → AreParts (texts ++ text ∷ []) (ps ++ p ∷ [])
parts_more text p is no_part = one_more is no_part
parts_more text p is (one_more first rest) = one_more first (parts_more text p is rest)

pub one_part_more : (texts : List Bytes) (n : ℕ) (text : Bytes) (ps new : List Part) (p : Part) → n < length texts → text ≡ get_or texts n text → IsPart text p → new ≡ ps ++ p ∷ [] → AreParts (take n texts) ps → AreParts (take (n + 1) texts) new
one_part_more texts n text ps new p below at is e before =
    subst (AreParts (take (n + 1) texts)) (sym e)
    (subst (λ ts. AreParts ts (ps ++ p ∷ [])) (sym (take_more texts n text below ∙ ap (λ x. take n texts ++ x ∷ []) (sym at))) (parts_more text p is before))
