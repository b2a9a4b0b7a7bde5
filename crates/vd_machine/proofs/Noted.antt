-- Lists of touches with one changed or added, and the sets that hold their places.
use Rattle.std.proofs.Common.{◌≡◌, ℕ, zero, suc, ◌+◌, ◌<◌, ◌≤◌, Bool, true, false, cond, not, ◌&&◌, ◌||◌, List, [], ◌∷◌, ◌++◌, length, slice_set, Some, None, refl, sym, ◌∙◌, ap, ap₂, arith, length-append, ◌⊎◌, inl, inr}
use Rattle.std.specs.Prelude.{◌==◌, slice_get}
use Rattle.std.specs.Option.{unwrap_or}
use Rattle.std.specs.BTreeSet.{BTreeSet}
use Rattle.std.proofs.lemmas.Bool.{eqb-true, eq-eqb, ne_eqb, cases_order, cases_eq, cases_Bool}
use Rattle.std.proofs.lemmas.List.{length-set}
use Rattle.vd_machine.specs.declared.touch.Touched.{Touched}
use Rattle.vd_machine.specs.Touches.{nothing}
use Rattle.vd_machine.specs.Watching.{Place, has, Two, is_either, touch_in, IsNoted, Holds}
use Rattle.vd_machine.proofs.Rivals.{absent}
use Rattle.vd_machine.proofs.Spawning.{get_set, get_front}

get_same : {A : Type 0} (ts : List A) (n : ℕ) (t : A) → n < length ts → slice_get (slice_set ts n t) n ≡ Some t
get_same [] n t l = absurd (omega arith)
get_same (x ∷ ts) zero t l = refl
get_same (x ∷ ts) (suc n) t l = get_same ts n t (omega arith)

get_last : {A : Type 0} (ts : List A) (t : A) → slice_get (ts ++ t ∷ []) (length ts) ≡ Some t
get_last [] t = refl
get_last (x ∷ ts) t = get_last ts t

-- the touch at one place, and those at the others
by_place :
    (ts us : List Touched) (n : ℕ) (t : Touched) → touch_in us n ≡ t → ((k : ℕ) → (k ≡ n → ⊥) → touch_in us k ≡ touch_in ts k) → (k : ℕ) →
    touch_in us k ≡ cond (n == k) t (touch_in ts k)
by_place ts us n t here other k = by_case (cases_eq k n)
  where
    by_case : (k ≡ n) ⊎ (k ≡ n → ⊥) → touch_in us k ≡ cond (n == k) t (touch_in ts k)
    by_case (inl e) = ap (λ x. touch_in us x) e ∙ here ∙ sym (ap (λ x. cond x t (touch_in ts k)) (eq-eqb n k (sym e)))
    by_case (inr ne) = other k ne ∙ sym (ap (λ x. cond x t (touch_in ts k)) (ne_eqb n k (λ e. ne (sym e))))

pub noted_set : (ts : List Touched) (n : ℕ) (t : Touched) → n < length ts → IsNoted ts n t (slice_set ts n t)
noted_set ts n t l = record {
  touches = by_place ts (slice_set ts n t) n t (ap (λ x. unwrap_or x nothing) (get_same ts n t l)) (λ k ne. ap (λ x. unwrap_or x nothing) (get_set ts n k t ne));
  count = let h : length (slice_set ts n t) ≡ length ts = length-set ts n t in omega arith;
}

pub noted_added : (ts : List Touched) (n : ℕ) (t : Touched) → n ≡ length ts → IsNoted ts n t (ts ++ t ∷ [])
noted_added ts n t e = record {
  touches = by_place ts (ts ++ t ∷ []) n t (ap (λ x. touch_in (ts ++ t ∷ []) x) e ∙ ap (λ x. unwrap_or x nothing) (get_last ts t)) others;
  count = let h : length (ts ++ t ∷ []) ≡ length ts + 1 = length-append ts (t ∷ []) in omega arith;
}
  where
    others : (k : ℕ) → (k ≡ n → ⊥) → touch_in (ts ++ t ∷ []) k ≡ touch_in ts k
    others k ne = by_case (cases_order k n)
      where
        by_case : (k ≡ n) ⊎ ((k < n) ⊎ (n < k)) → touch_in (ts ++ t ∷ []) k ≡ touch_in ts k
        by_case (inl f) = absurd (ne f)
        by_case (inr (inl l)) = ap (λ x. unwrap_or x nothing) (get_front ts (t ∷ []) k (omega arith))
        by_case (inr (inr l)) =
            let h : length (ts ++ t ∷ []) ≡ length ts + 1 = length-append ts (t ∷ []) in
            let a : slice_get (ts ++ t ∷ []) k ≡ None = absent (ts ++ t ∷ []) k (omega arith) in
            let b : slice_get ts k ≡ None = absent ts k (omega arith) in
            ap (λ x. unwrap_or x nothing) (a ∙ sym b)

-- past the end there is no touch
pub none_in : (ts : List Touched) (k : ℕ) → length ts ≤ k → touch_in ts k ≡ nothing
none_in ts k l = ap (λ x. unwrap_or x nothing) (absent ts k l)

put_here : (x h : Bool) → h ≡ false → ((x && true) || h) ≡ x
put_here true h e = refl
put_here false h e = e

put_there : (x h : Bool) → ((x && false) || h) ≡ h
put_there true h = refl
put_there false h = refl

take_here : (x : Bool) → (not (x && true) && x) ≡ false
take_here true = refl
take_here false = refl

take_there : (x h : Bool) → (not (x && false) && h) ≡ h
take_there true h = refl
take_there false h = refl

-- a set that held the places of a list holds those of the list with one touch more, where it was given that touch's places
pub holds_with :
    (set now : BTreeSet Place) (f : Touched → Two) (ts us : List Touched) (n : ℕ) (t : Touched) → ((b o : ℕ) → is_either (f nothing) b o ≡ false) → Holds set f ts →
    touch_in ts n ≡ nothing → IsNoted ts n t us → ((b o k : ℕ) → has now b o k ≡ ((is_either (f t) b o && (n == k)) || has set b o k)) → Holds now f us
holds_with set now f ts us n t none holds free noted change b o k = by_case (cases_Bool (n == k))
  where
    by_case : ((n == k) ≡ true) ⊎ ((n == k) ≡ false) → has now b o k ≡ is_either (f (touch_in us k)) b o
    by_case (inl e) =
        let same : n ≡ k = eqb-true n k e in
        let before : has set b o k ≡ false = holds b o k ∙ ap (λ x. is_either (f (touch_in ts x)) b o) (sym same) ∙ ap (λ x. is_either (f x) b o) free ∙ none b o in
        change b o k ∙ ap (λ x. (is_either (f t) b o && x) || has set b o k) e ∙ put_here (is_either (f t) b o) (has set b o k) before
        ∙ sym (ap (λ x. is_either (f x) b o) (noted.touches k ∙ ap (λ x. cond x t (touch_in ts k)) e))
    by_case (inr e) =
        change b o k ∙ ap (λ x. (is_either (f t) b o && x) || has set b o k) e ∙ put_there (is_either (f t) b o) (has set b o k) ∙ holds b o k
        ∙ sym (ap (λ x. is_either (f x) b o) (noted.touches k ∙ ap (λ x. cond x t (touch_in ts k)) e))

-- and those of the list with one touch less, where that touch's places were taken out
pub holds_without :
    (set now : BTreeSet Place) (f : Touched → Two) (ts us : List Touched) (n : ℕ) (t : Touched) → ((b o : ℕ) → is_either (f nothing) b o ≡ false) → Holds set f ts →
    t ≡ touch_in ts n → IsNoted ts n nothing us → ((b o k : ℕ) → has now b o k ≡ (not (is_either (f t) b o && (n == k)) && has set b o k)) → Holds now f us
holds_without set now f ts us n t none holds is noted change b o k = by_case (cases_Bool (n == k))
  where
    by_case : ((n == k) ≡ true) ⊎ ((n == k) ≡ false) → has now b o k ≡ is_either (f (touch_in us k)) b o
    by_case (inl e) =
        let same : n ≡ k = eqb-true n k e in
        let before : has set b o k ≡ is_either (f t) b o = holds b o k ∙ ap (λ x. is_either (f (touch_in ts x)) b o) (sym same) ∙ ap (λ x. is_either (f x) b o) (sym is) in
        change b o k ∙ ap₂ (λ x y. not (is_either (f t) b o && x) && y) e before ∙ take_here (is_either (f t) b o) ∙ sym (none b o)
        ∙ sym (ap (λ x. is_either (f x) b o) (noted.touches k ∙ ap (λ x. cond x nothing (touch_in ts k)) e))
    by_case (inr e) =
        change b o k ∙ ap (λ x. not (is_either (f t) b o && x) && has set b o k) e ∙ take_there (is_either (f t) b o) (has set b o k) ∙ holds b o k
        ∙ sym (ap (λ x. is_either (f x) b o) (noted.touches k ∙ ap (λ x. cond x nothing (touch_in ts k)) e))
