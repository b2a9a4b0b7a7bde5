-- Stories whose state keeps every entry, and the law of such a story. The law stands beside the definition, where an `impl` of Story can cite it.
use Rattle.std.specs.Prelude.{◌≡◌, List, [], ◌∷◌, ◌++◌, Option, Some, None, option_to_list}
use Rattle.std.proofs.Common.{refl, ap, sym, ◌∙◌, append_assoc, append-nil}
use Rattle.std.proofs.lemmas.List.{append_cancel_left}
use Rattle.vd_gate.specs.declared.story.PastTurn.{PastTurn}

module _ {E : Type 0} where
  -- the entries of all turns, in order
  abbrev pub all_entries : List (PastTurn E) → List E
  all_entries [] = []
  all_entries (t ∷ ts) = option_to_list t.entry ++ all_entries ts

  pub all_entries-append : (ts us : List (PastTurn E)) → all_entries (ts ++ us) ≡ all_entries ts ++ all_entries us
  all_entries-append [] us = refl
  all_entries-append (t ∷ ts) us = ap (λ l. option_to_list t.entry ++ l) (all_entries-append ts us) ∙ sym (append_assoc (option_to_list t.entry) (all_entries ts) (all_entries us))

  pub all_entries-push : (ts : List (PastTurn E)) (t : PastTurn E) → all_entries (ts ++ t ∷ []) ≡ all_entries ts ++ option_to_list t.entry
  all_entries-push ts t = all_entries-append ts (t ∷ []) ∙ ap (λ l. all_entries ts ++ l) (append-nil (option_to_list t.entry))

  option_to_list-injective : (a b : Option E) → option_to_list a ≡ option_to_list b → a ≡ b
  option_to_list-injective None None e = refl
  option_to_list-injective None (Some y) e = absurd (let c : ◌≡◌ {A = List E} [] (y ∷ []) = e in cc)
  option_to_list-injective (Some x) None e = absurd (let c : ◌≡◌ {A = List E} (x ∷ []) [] = e in cc)
  option_to_list-injective (Some x) (Some y) e = let c : ◌≡◌ {A = List E} (x ∷ []) (y ∷ []) = e in cc

  -- all entries and the pass determine the last turn
  pub same_last_turn : (turns : List (PastTurn E)) (a b : PastTurn E) → a.number ≡ b.number → all_entries (turns ++ a ∷ []) ≡ all_entries (turns ++ b ∷ []) → a ≡ b
  same_last_turn turns a b number e =
      let entries : a.entry ≡ b.entry = option_to_list-injective a.entry b.entry
      (append_cancel_left (all_entries turns) (option_to_list a.entry) (option_to_list b.entry) (sym (all_entries-push turns a) ∙ (e ∙ all_entries-push turns b))) in
      λ i. record { number = number i; entry = entries i }
