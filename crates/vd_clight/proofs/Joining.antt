-- Tokens that are written one behind the other.
use Rattle.std.proofs.Common.{◌≡◌, ℕ, List, [], ◌∷◌, ◌++◌, codes, refl, sym, ◌∙◌, ap, append_assoc}
use Rattle.std.proofs.lemmas.Grind.{flat_map-append}
use Rattle.std.specs.List.{join_with_byte}
use Rattle.vd_clight.specs.declared.syntax.FnText.{FnText}
use Rattle.vd_clight.specs.Printed.{Words, one, ended, opened_words, printed}

ended_parts : (xs ys : Words) → ended (xs ++ ys) ≡ ended xs ++ ended ys
ended_parts xs ys = flat_map-append (λ w. w ++ 32 ∷ []) xs ys

two_parts : (line middle last : List ℕ) (xs ys : Words) → middle ≡ line ++ ended xs → last ≡ middle ++ ended ys → last ≡ line ++ ended (xs ++ ys)
two_parts line middle last xs ys h g =
    g ∙ (ap (λ z. z ++ ended ys) h ∙ (append_assoc line (ended xs) (ended ys) ∙ ap (λ z. line ++ z) (sym (ended_parts xs ys))))

pub three_parts : (line first middle last : List ℕ) (xs ys zs : Words) → first ≡ line ++ ended xs → middle ≡ first ++ ended ys → last ≡ middle ++ ended zs
    → last ≡ line ++ ended (xs ++ ys ++ zs)
three_parts line first middle last xs ys zs h g e = two_parts line middle last (xs ++ ys) zs (two_parts line first middle xs ys h g) e

pub joined : (ws : Words) (w : List ℕ) → ended ws ++ w ≡ join_with_byte 32 (ws ++ one w)
joined [] w = refl
joined (v ∷ []) w = append_assoc (v ++ 32 ∷ []) [] w ∙ append_assoc v (32 ∷ []) w
joined (v ∷ u ∷ ws) w = append_assoc (v ++ 32 ∷ []) (ended (u ∷ ws)) w ∙ (append_assoc v (32 ∷ []) (ended (u ∷ ws) ++ w) ∙ ap (λ z. v ++ 32 ∷ z) (joined (u ∷ ws) w))

pub printed_is : (f : FnText) → printed f ≡ ended (opened_words f) ++ codes "}"
printed_is f = sym (joined (opened_words f) (codes "}"))
