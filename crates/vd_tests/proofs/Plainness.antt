-- Texts of the form, one after another.
use Rattle.std.proofs.Common.{◌≡◌, ◌<◌, ◌≤◌, ◌+◌, ℕ, List, [], ◌∷◌, ◌++◌, length, take, get_or, ap, sym, ◌∙◌, subst}
use Rattle.std.proofs.lemmas.List.{take_all, take_more}
use Rattle.std.proofs.lemmas.List.Elements.{All-push}
use Rattle.vd_linkage.specs.Form.{ArePlain, Entry, IsPlainText}

pub plain_more : (here texts : List Entry) (i : ℕ) (t : Entry) → here ≡ texts → i < length here → t ≡ get_or here i t → IsPlainText t.2 → ArePlain (take i texts) → ArePlain (take (i + 1) texts)
plain_more here texts i t same within at plain before =
    subst (λ xs. ArePlain (take (i + 1) xs)) same
    (subst ArePlain (sym (take_more here i t within ∙ ap (λ y. take i here ++ y ∷ []) (sym at))) (All-push (λ (x : Entry). IsPlainText x.2) (take i here) t (subst (λ xs. ArePlain (take i xs)) (sym same) before) plain))

pub plain_all : (here texts : List Entry) (i : ℕ) → here ≡ texts → length here ≤ i → ArePlain (take i texts) → ArePlain texts
plain_all here texts i same past before = subst ArePlain same (subst ArePlain (take_all i here past) (subst (λ xs. ArePlain (take i xs)) (sym same) before))
