-- Disagreements, one label, assertion and section after another.
use Rattle.std.proofs.Common.{◌≡◌, ℕ, zero, suc, ◌+◌, ◌<◌, ◌≤◌, Bool, true, false, not, drop, List, [], ◌∷◌, ◌++◌, length, get_or, take, refl, sym, ap, ◌∙◌, subst, inl, inr, ◌⊎◌, arith, IsTrue}
use Rattle.std.specs.Prelude.{◌↔◌}
use Rattle.std.specs.List.{Any, flat_map}
use Rattle.std.proofs.lemmas.List.{append-nil, drop_more, take-append-drop, take_more, take_all}
use Rattle.std.proofs.lemmas.List.Concat.{flat_map-append}
use Rattle.std.proofs.lemmas.List.Elements.{Contains-append_cases, Contains-append_left, Contains-append_right, Contains-push_cases}
use Rattle.vd_heads.specs.declared.content.Content.{Content}
use Rattle.vd_heads.specs.declared.content.Part.{Part}
use Rattle.vd_heads.specs.declared.table.Space.TheVariants as space
use Rattle.vd_heads.specs.Closure.{IsUnambiguous, Means}
use Rattle.vd_logic.specs.declared.assertion.Label.{Label}
use Rattle.vd_sized.specs.Agreement.{IsMisused, argument_sorts, takes}

no : false ≡ true → ⊥
no e = cc

-- ---- some item of a list

pub any_at : {X : Type 0} (P : X → Type 0) (xs : List X) (i : ℕ) (x : X) → i < length xs → x ≡ get_or xs i x → P x → Any P xs
any_at P xs i x lt is p = (i, x, lt, sym is, p)

pub none_more : {X : Type 0} (P : X → Type 0) (xs : List X) (i : ℕ) (x : X) → i < length xs → x ≡ get_or xs i x → (P x → ⊥) → (Any P (take i xs) → ⊥) → Any P (take (i + 1) xs) → ⊥
none_more P xs i x lt is n before w =
    let e : take (i + 1) xs ≡ take i xs ++ x ∷ [] = take_more xs i x lt ∙ ap (λ y. take i xs ++ y ∷ []) (sym is) in
    let v : Any P (take i xs ++ x ∷ []) = subst (Any P) e w in
    elim (Contains-push_cases (take i xs) x v.1 (v.0, v.2, v.3)) [
      | inl c ↦ before (c.0, v.1, c.1, c.2, v.4)
      | inr same ↦ n (subst P (sym same) v.4)
    ]

pub none_all : {X : Type 0} (P : X → Type 0) (xs : List X) (i : ℕ) → length xs ≤ i → (Any P (take i xs) → ⊥) → Any P xs → ⊥
none_all P xs i le none w = none (subst (Any P) (sym (take_all i xs le)) w)

-- ---- labels

module _ (parts : List Part) (own : ℕ) (label : Label) where
  fails : (b : Bool) → IsTrue (not b) → b ≡ false
  fails true t = absurd (no t)
  fails false t = refl

  holds : (b : Bool) → b ≡ false → IsTrue (not b)
  holds true e = absurd (no (sym e))
  holds false e = refl

  pub misused_by : IsUnambiguous parts own → (c : Content) (b : Bool) → Means parts own space.Predicate label.name c → b ≡ takes (argument_sorts c) label.args → IsTrue (not b) ↔ IsMisused parts own label
  misused_by single c b m e = (
    λ t. record { declared = c; means = m; other = sym e ∙ fails b t },
    λ w. holds b (e ∙ (ap (λ d. takes (argument_sorts d) label.args) (single space.Predicate label.name c w.declared m w.means) ∙ w.other)),
  )

  pub misused_nowhere : ((c : Content) → Means parts own space.Predicate label.name c → ⊥) → IsTrue false ↔ IsMisused parts own label
  misused_nowhere none = (λ t. absurd (no t), λ w. absurd (none w.declared w.means))

-- ---- lists of lists

any_left : {X : Type 0} (P : X → Type 0) (xs ys : List X) → Any P xs → Any P (xs ++ ys)
any_left P xs ys a = let c = Contains-append_left xs ys a.1 (a.0, a.2, a.3) in (c.0, a.1, c.1, c.2, a.4)

any_right : {X : Type 0} (P : X → Type 0) (xs ys : List X) → Any P ys → Any P (xs ++ ys)
any_right P xs ys a = let c = Contains-append_right xs ys a.1 (a.0, a.2, a.3) in (c.0, a.1, c.1, c.2, a.4)

any_cases : {X : Type 0} (P : X → Type 0) (xs ys : List X) → Any P (xs ++ ys) → Any P xs ⊎ Any P ys
any_cases P xs ys a = elim (Contains-append_cases xs ys a.1 (a.0, a.2, a.3)) [ inl c ↦ inl (c.0, a.1, c.1, c.2, a.4) | inr c ↦ inr (c.0, a.1, c.1, c.2, a.4) ]

module _ {X Y : Type 0} (P : Y → Type 0) (f : X → List Y) (xs : List X) (i : ℕ) (x : X) (lt : i < length xs) (is : x ≡ get_or xs i x) where
  split : xs ≡ take i xs ++ (x ∷ drop (i + 1) xs)
  split = sym (take-append-drop i xs) ∙ ap (λ l. take i xs ++ l) (drop_more xs i x lt ∙ ap (λ y. y ∷ drop (i + 1) xs) (sym is))

  pub flat_here : Any P (f x) → Any P (flat_map f xs)
  flat_here a =
      subst (Any P) (sym (ap (flat_map f) split ∙ flat_map-append f (take i xs) (x ∷ drop (i + 1) xs)))
      (any_right P (flat_map f (take i xs)) (f x ++ flat_map f (drop (i + 1) xs)) (any_left P (f x) (flat_map f (drop (i + 1) xs)) a))

  pub flat_on : (Any P (f x) → ⊥) → (Any P (flat_map f (take i xs)) → ⊥) → Any P (flat_map f (take (i + 1) xs)) → ⊥
  flat_on n before a =
      let e : take (i + 1) xs ≡ take i xs ++ x ∷ [] = take_more xs i x lt ∙ ap (λ y. take i xs ++ y ∷ []) (sym is) in
      let b : Any P (flat_map f (take i xs) ++ (f x ++ [])) = subst (Any P) (ap (flat_map f) e ∙ flat_map-append f (take i xs) (x ∷ [])) a in
      elim (any_cases P (flat_map f (take i xs)) (f x ++ []) b) [ inl c ↦ before c | inr c ↦ n (subst (Any P) (append-nil (f x)) c) ]

pub flat_none : {X Y : Type 0} (P : Y → Type 0) (f : X → List Y) (xs : List X) (i : ℕ) → length xs ≤ i → (Any P (flat_map f (take i xs)) → ⊥) → Any P (flat_map f xs) → ⊥
flat_none P f xs i le none a = none (subst (λ l. Any P (flat_map f l)) (sym (take_all i xs le)) a)

pub any_one : {X : Type 0} (P : X → Type 0) (x : X) (xs : List X) (b : Bool) → x ∷ [] ≡ xs → IsTrue b ↔ P x → IsTrue b ↔ Any P xs
any_one P x xs b e h = subst (λ l. IsTrue b ↔ Any P l) e (λ t. (0, x, omega arith, refl, h.0 t), λ a. h.1 (only a)) where
  only : Any P (x ∷ []) → P x
  only (zero, y, lt, is, p) = subst P (sym is) p
  only (suc k, y, lt, is, p) = absurd (omega arith)

pub any_none : {X : Type 0} (P : X → Type 0) (xs : List X) → [] ≡ xs → IsTrue false ↔ Any P xs
any_none P xs e = subst (λ l. IsTrue false ↔ Any P l) e (λ t. absurd (no t), λ a. absurd (omega (arith, a.2)))
