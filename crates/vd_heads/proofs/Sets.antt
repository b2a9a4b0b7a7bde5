-- What putting parts into a set does.
use Rattle.std.proofs.Common.{◌≡◌, ℕ, zero, suc, ◌+◌, ◌<◌, ◌≤◌, Bool, true, false, cond, List, [], ◌∷◌, ◌++◌, length, get_or, set, Some, ◌⊎◌, inl, inr, refl, ap, sym, ◌∙◌, arith}
use Rattle.std.specs.List.{count_by, slice_get}
use Rattle.std.proofs.lemmas.Bool.{cases_eq, false≢true}
use Rattle.std.proofs.lemmas.List.{length-set, length_push, get_or-set_same, get_or-set_other}
use Rattle.std.proofs.lemmas.List.Sums.{sum_by-set, sum_by-cons}
use Rattle.std.proofs.lemmas.Option.{unwrap_or-slice_get}
use Rattle.vd_heads.specs.PartSet.{Adds, IsPartSet}
use Rattle.vd_heads.specs.Views.{is_marked}
use Rattle.vd_heads.specs.declared.part_set.PartSet.{PartSet}

-- ---- lists

pub slice_get-front : {A : Type 0} (xs ys : List A) (j : ℕ) (x : A) → slice_get xs j ≡ Some x → slice_get (xs ++ ys) j ≡ Some x
slice_get-front [] ys j x e = cc
slice_get-front (y ∷ xs) ys zero x e = e
slice_get-front (y ∷ xs) ys (suc j) x e = slice_get-front xs ys j x e

pub slice_get-last : {A : Type 0} (xs : List A) (x : A) → slice_get (xs ++ x ∷ []) (length xs) ≡ Some x
slice_get-last [] x = refl
slice_get-last (y ∷ xs) x = slice_get-last xs x

pub slice_get-push : {A : Type 0} (xs : List A) (y : A) (j : ℕ) (x : A) → slice_get (xs ++ y ∷ []) j ≡ Some x → (slice_get xs j ≡ Some x) ⊎ (x ≡ y)
slice_get-push [] y zero x e = inr cc
slice_get-push [] y (suc j) x e = cc
slice_get-push (z ∷ xs) y zero x e = inl e
slice_get-push (z ∷ xs) y (suc j) x e = slice_get-push xs y j x e

-- ---- marks

pub marked_at : (marks : List Bool) (k : ℕ) → is_marked marks k ≡ get_or marks k false
marked_at marks k = unwrap_or-slice_get marks k false

pub marked_within : (marks : List Bool) (k : ℕ) → is_marked marks k ≡ true → k < length marks
marked_within [] k e = cc
marked_within (b ∷ marks) zero e = omega arith
marked_within (b ∷ marks) (suc k) e = let h = marked_within marks k e in omega arith

pub marked_push : (marks : List Bool) (k : ℕ) → ((j : ℕ) → is_marked marks j ≡ false) → is_marked (marks ++ false ∷ []) k ≡ false
marked_push [] zero none = refl
marked_push [] (suc k) none = refl
marked_push (b ∷ marks) zero none = none 0
marked_push (b ∷ marks) (suc k) none = marked_push marks k (λ j. none (suc j))

pub marked_set : (marks : List Bool) (n k : ℕ) → n < length marks → is_marked (set marks n true) k ≡ true → (k ≡ n) ⊎ (is_marked marks k ≡ true)
marked_set marks n k within e =
    elim (cases_eq k n) [
      | inl same ↦ inl same
      | inr other ↦ inr (marked_at marks k ∙ (sym (get_or-set_other marks n k true false other) ∙ (sym (marked_at (set marks n true) k) ∙ e)))
    ]

pub marked_here : (marks : List Bool) (n : ℕ) → n < length marks → is_marked (set marks n true) n ≡ true
marked_here marks n within = marked_at (set marks n true) n ∙ get_or-set_same marks n true false within

pub marked_still : (marks : List Bool) (n k : ℕ) → n < length marks → is_marked marks k ≡ true → is_marked (set marks n true) k ≡ true
marked_still marks n k within e =
    elim (cases_eq k n) [
      | inl same ↦ ap (is_marked (set marks n true)) same ∙ marked_here marks n within
      | inr other ↦ marked_at (set marks n true) k ∙ (get_or-set_other marks n k true false other ∙ (sym (marked_at marks k) ∙ e))
    ]

counted_set : (marks : List Bool) (n : ℕ) → n < length marks → is_marked marks n ≡ false → count_by (λ b. b) (set marks n true) ≡ count_by (λ b. b) marks + 1
counted_set marks n within e =
    let f : Bool → ℕ = λ b. cond b 1 0 in
    let now = sum_by-set f marks n true false within in
    let was : f (get_or marks n false) ≡ 0 = ap f (sym (marked_at marks n) ∙ e) in
    omega (arith, now, was)

counted_none : (marks : List Bool) → ((j : ℕ) → is_marked marks j ≡ false) → count_by (λ b. b) marks ≡ 0
counted_none [] none = refl
counted_none (b ∷ marks) none =
    let f : Bool → ℕ = λ x. cond x 1 0 in
    let here : f b ≡ 0 = ap f (none 0) in
    let rest = counted_none marks (λ j. none (suc j)) in
    omega (arith, here, rest, sum_by-cons f b marks)

-- ---- sets

pub is_set_none : (s : PartSet) → ((j : ℕ) → is_marked s.marks.items j ≡ false) → s.members.items ≡ [] → IsPartSet s
is_set_none s none empty = record {
  counted = counted_none s.marks.items none ∙ ap length (sym empty);
  listed = λ k h. absurd (false≢true (sym (none k) ∙ h));
  marked = λ j k h. absurd (nothing j k (ap (λ m. slice_get m j) (sym empty) ∙ h));
} where
  nothing : (j k : ℕ) → slice_get [] j ≡ Some k → ⊥
  nothing j k e = cc

pub adds_none : (P : ℕ → Type 0) (s : PartSet) → IsPartSet s → ((k : ℕ) → k < length s.marks.items → P k → is_marked s.marks.items k ≡ true) → Adds P s s
adds_none P s is all = record { is_set = is; long = refl; kept = λ k h. h; only = λ k h. inl h; added = all; order = λ j k h. h }

pub adds_both : (P Q R : ℕ → Type 0) (s t u : PartSet) → Adds P s t → Adds Q t u → ((k : ℕ) → R k → P k ⊎ Q k) → ((k : ℕ) → P k → R k) → ((k : ℕ) → Q k → R k) → Adds R s u
adds_both P Q R s t u first second split left right = record {
  is_set = second.is_set;
  long = second.long ∙ first.long;
  kept = λ k h. second.kept k (first.kept k h);
  only = λ k h. elim (second.only k h) [ inl before ↦ elim (first.only k before) [ inl old ↦ inl old | inr p ↦ inr (left k p) ] | inr q ↦ inr (right k q) ];
  added = λ k within r. elim (split k r) [ inl p ↦ second.kept k (first.added k within p) | inr q ↦ second.added k (let e = first.long in omega (arith, e)) q ];
  order = λ j k h. second.order j k (first.order j k h);
}

pub adds_as : (P Q : ℕ → Type 0) (s t : PartSet) → ((k : ℕ) → P k → Q k) → ((k : ℕ) → Q k → P k) → Adds P s t → Adds Q s t
adds_as P Q s t to from adds = record {
  is_set = adds.is_set;
  long = adds.long;
  kept = adds.kept;
  only = λ k h. elim (adds.only k h) [ inl old ↦ inl old | inr p ↦ inr (to k p) ];
  added = λ k within q. adds.added k within (from k q);
  order = adds.order;
}

pub adds_past : (s : PartSet) (n : ℕ) → length s.marks.items ≤ n → IsPartSet s → Adds (λ k. k ≡ n) s s
adds_past s n past is = adds_none (λ k. k ≡ n) s is (λ k within e. absurd (omega (arith, e)))

pub adds_again : (s : PartSet) (n : ℕ) → is_marked s.marks.items n ≡ true → IsPartSet s → Adds (λ k. k ≡ n) s s
adds_again s n there is = adds_none (λ k. k ≡ n) s is (λ k within e. ap (is_marked s.marks.items) e ∙ there)

pub adds_new : (s t : PartSet) (n : ℕ) → n < length s.marks.items → is_marked s.marks.items n ≡ false → t.marks.items ≡ set s.marks.items n true → t.members.items ≡ s.members.items ++ n ∷ []
    → IsPartSet s → Adds (λ k. k ≡ n) s t
adds_new s t n within fresh marks members is =
    let old = s.marks.items in
    let here : is_marked t.marks.items n ≡ true = ap (λ m. is_marked m n) marks ∙ marked_here old n within in
    let still : (k : ℕ) → is_marked old k ≡ true → is_marked t.marks.items k ≡ true = λ k h. ap (λ m. is_marked m k) marks ∙ marked_still old n k within h in
    let front : (j k : ℕ) → slice_get s.members.items j ≡ Some k → slice_get t.members.items j ≡ Some k = λ j k h. ap (λ m. slice_get m j) members ∙ slice_get-front s.members.items (n ∷ []) j k h in
    record {
      is_set = record {
        counted = ap (count_by (λ b. b)) marks ∙ (counted_set old n within fresh ∙ (ap (λ c. c + 1) is.counted ∙ (sym (length_push s.members.items n) ∙ ap length (sym members))));
        listed = λ k h. elim (marked_set old n k within (ap (λ m. is_marked m k) (sym marks) ∙ h)) [
          | inl same ↦ (length s.members.items, ap (λ m. slice_get m (length s.members.items)) members ∙ (slice_get-last s.members.items n ∙ ap Some (sym same)))
          | inr was ↦ let l = is.listed k was in (l.0, front l.0 k l.1)
        ];
        marked = λ j k h. elim (slice_get-push s.members.items n j k (ap (λ m. slice_get m j) (sym members) ∙ h)) [
          | inl was ↦ still k (is.marked j k was)
          | inr same ↦ ap (is_marked t.marks.items) same ∙ here
        ];
      };
      long = ap length marks ∙ length-set old n true;
      kept = still;
      only = λ k h. elim (marked_set old n k within (ap (λ m. is_marked m k) (sym marks) ∙ h)) [ inl same ↦ inr same | inr was ↦ inl was ];
      added = λ k below e. ap (is_marked t.marks.items) e ∙ here;
      order = front;
    }
