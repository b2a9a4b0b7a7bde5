-- The entries of a number in a list of turns, and lists of entries after a turn. Callers that follow what a pass entered need these too.
use Rattle.std.proofs.Common.{◌≡◌, ◌≢◌, ℕ, ◌==◌, ⊎_elim, true, false, List, [], ◌∷◌, ◌++◌, Option, Some, None, refl, ap, sym, ◌∙◌, subst, append_assoc, append-nil, eq-eqb, ne_eqb}
use Rattle.std.specs.Prelude.{option_to_list, if◌then◌else◌}
use Rattle.std.specs.List.{Contains}
use Rattle.vd_gate.specs.declared.story.PastTurn.{PastTurn}
use Rattle.vd_gate.specs.Turns.{entry_by, entries_by, with_turn, HasLists}
use Rattle.vd_gate.proofs.Lists.{contains_map, contains_first, contains_rest, contains_cons, contains_none}

module _ {E : Type 0} where
  pub entries_by-append : (n : ℕ) (ts us : List (PastTurn E)) → entries_by n (ts ++ us) ≡ entries_by n ts ++ entries_by n us
  entries_by-append n [] us = refl
  entries_by-append n (t ∷ ts) us = ap (λ l. entry_by n t ++ l) (entries_by-append n ts us) ∙ sym (append_assoc (entry_by n t) (entries_by n ts) (entries_by n us))

  pub entries_by-push : (n : ℕ) (ts : List (PastTurn E)) (t : PastTurn E) → entries_by n (ts ++ t ∷ []) ≡ entries_by n ts ++ entry_by n t
  entries_by-push n ts t = entries_by-append n ts (t ∷ []) ∙ ap (λ l. entries_by n ts ++ l) (append-nil (entry_by n t))

  -- a turn of another pass has no entry of this one
  pub entry_by_other : (n : ℕ) (t : PastTurn E) → t.number ≢ n → entry_by n t ≡ []
  entry_by_other n t other = ap (λ b. if b then option_to_list t.entry else []) (ne_eqb t.number n other)

  pub entries_by_other : (n : ℕ) (ts : List (PastTurn E)) (t : PastTurn E) → t.number ≢ n → entries_by n (ts ++ t ∷ []) ≡ entries_by n ts
  entries_by_other n ts t other = entries_by-push n ts t ∙ (ap (λ l. entries_by n ts ++ l) (entry_by_other n t other) ∙ append-nil (entries_by n ts))

  -- where a list after the turn comes from
  pub with_turn_has : (t : PastTurn E) (mine : List (ℕ × List E)) (n : ℕ) (es : List E) → Contains (with_turn t mine) (n, es) → (old : List E) × Contains mine (n, old) × (es ≡ old ++ entry_by n t)
  with_turn_has t mine n es c = let r = contains_map (λ p. (p.0, p.1 ++ entry_by p.0 t)) mine (n, es) c in
      let same : r.0.0 ≡ n = ap (λ (p : ℕ × List E). p.0) r.2 in
      let entries : r.0.1 ++ entry_by r.0.0 t ≡ es = ap (λ (p : ℕ × List E). p.1) r.2 in
      (r.0.1, subst (λ (k : ℕ). Contains mine (k, r.0.1)) same r.1, sym entries ∙ ap (λ (k : ℕ). r.0.1 ++ entry_by k t) same)

  -- a turn without an entry changes no list
  pub entry_by_none : (n : ℕ) (t : PastTurn E) → t.entry ≡ None → entry_by n t ≡ []
  entry_by_none n t none = ap (λ (o : Option E). if t.number == n then option_to_list o else []) none
      ∙ elim (t.number == n) as (λ b. ◌≡◌ {A = List E} (if b then option_to_list None else []) []) [ true ↦ refl | false ↦ refl ]

  pub with_turn_none : (t : PastTurn E) (mine : List (ℕ × List E)) → t.entry ≡ None → with_turn t mine ≡ mine
  with_turn_none t [] none = refl
  with_turn_none t (p ∷ ps) none = let here : p.1 ++ entry_by p.0 t ≡ p.1 = ap (λ l. p.1 ++ l) (entry_by_none p.0 t none) ∙ append-nil p.1 in
      λ i. (p.0, here i) ∷ with_turn_none t ps none i

  -- a turn with an entry adds to the list of its own number
  pub entry_by_own : (t : PastTurn E) (x : E) → t.entry ≡ Some x → entry_by t.number t ≡ x ∷ []
  entry_by_own t x some = ap (λ b. if b then option_to_list t.entry else []) (eq-eqb t.number t.number refl) ∙ ap option_to_list some

  -- what is exact of each number stays so after a turn
  pub exact_after : (turns : List (PastTurn E)) (t : PastTurn E) (mine : List (ℕ × List E)) → ((n : ℕ) (es : List E) → Contains mine (n, es) → entries_by n turns ≡ es)
      → (n : ℕ) (es : List E) → Contains (with_turn t mine) (n, es) → entries_by n (turns ++ t ∷ []) ≡ es
  exact_after turns t mine exact n es c = let o = with_turn_has t mine n es c in
      entries_by-push n turns t ∙ (ap (λ (l : List E). l ++ entry_by n t) (exact n o.0 o.1) ∙ sym o.2)

  -- what becomes of a list at the turn
  with_turn_keeps : (t : PastTurn E) (mine : List (ℕ × List E)) (n : ℕ) (es : List E) → Contains mine (n, es) → Contains (with_turn t mine) (n, es ++ entry_by n t)
  with_turn_keeps t [] n es c = absurd (contains_none (n, es) c)
  with_turn_keeps t (p ∷ ps) n es c = ⊎_elim
      (λ (e : p ≡ (n, es)). subst (λ (q : ℕ × List E). Contains (with_turn t (p ∷ ps)) (q.0, q.1 ++ entry_by q.0 t)) e (contains_first (p.0, p.1 ++ entry_by p.0 t) (with_turn t ps)))
      (λ (d : Contains ps (n, es)). contains_rest (p.0, p.1 ++ entry_by p.0 t) (n, es ++ entry_by n t) (with_turn t ps) (with_turn_keeps t ps n es d)) (contains_cons p (n, es) ps c)

  -- the only list of a new pass is empty
  new_list_empty : (n k : ℕ) (es : List E) → Contains {X = ℕ × List E} ((n, []) ∷ []) (k, es) → [] ≡ es
  new_list_empty n k es c = ⊎_elim (λ (e : ◌≡◌ {A = ℕ × List E} (n, []) (k, es)). ap (λ (p : ℕ × List E). p.1) e)
      (λ (d : Contains [] (k, es)). absurd (contains_none (k, es) d)) (contains_cons (n, []) (k, es) [] c)

  -- the one list of a new pass
  pub has_lists_new : (n : ℕ) → HasLists {E = E} n ((n, []) ∷ [])
  has_lists_new n = record {
    own = ([], contains_first {A = ℕ × List E} (n, []) []);
    one = λ k es fs c d. sym (new_list_empty n k es c) ∙ new_list_empty n k fs d;
  }

  pub has_lists_with_turn : (n : ℕ) (t : PastTurn E) (mine : List (ℕ × List E)) → HasLists n mine → HasLists n (with_turn t mine)
  has_lists_with_turn n t mine h = record {
    own = (h.own.0 ++ entry_by n t, with_turn_keeps t mine n h.own.0 h.own.1);
    one = λ k es fs c d. let a = with_turn_has t mine k es c in let b = with_turn_has t mine k fs d in
        a.2 ∙ (ap (λ (l : List E). l ++ entry_by k t) (h.one k a.0 b.0 a.1 b.1) ∙ sym b.2);
  }
