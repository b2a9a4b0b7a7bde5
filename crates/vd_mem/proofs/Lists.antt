-- Lists by place, and lists with one element changed.
use Rattle.std.proofs.Common.{◌≡◌, ◌≢◌, ℕ, zero, suc, ◌<◌, ◌≤◌, Bool, true, false, ◌&&◌, cond, List, [], ◌∷◌, ◌++◌, length, slice_set, Option, Some, None, refl, sym, ◌∙◌, ap, ap₂, subst, arith}
use Rattle.std.specs.Prelude.{nat_lt, replicate, slice_get}
use Rattle.std.specs.List.{list_all}
use Rattle.std.specs.Map.{lookup, values_of}
use Rattle.std.specs.Option.{unwrap_or, option_map}
use Rattle.std.proofs.lemmas.Bool.{and_parts, and_from}
use Rattle.vd_mem.specs.Tabulate.{tabulate, changed}

pub length-tabulate : {A : Type 0} (n : ℕ) (f : ℕ → A) → length (tabulate n f) ≡ n
length-tabulate zero f = refl
length-tabulate (suc n) f = ap suc (length-tabulate n (λ i. f (suc i)))

pub slice_get-tabulate : {A : Type 0} (n i : ℕ) (f : ℕ → A) → i < n → slice_get (tabulate n f) i ≡ Some (f i)
slice_get-tabulate zero i f h = absurd (omega arith)
slice_get-tabulate (suc n) zero f h = refl
slice_get-tabulate (suc n) (suc i) f h = slice_get-tabulate n i (λ j. f (suc j)) (omega arith)

pub tabulate-same : {A : Type 0} (n : ℕ) (f g : ℕ → A) → ((i : ℕ) → i < n → f i ≡ g i) → tabulate n f ≡ tabulate n g
tabulate-same zero f g h = refl
tabulate-same (suc n) f g h = ap₂ (λ x xs. x ∷ xs) (h 0 (omega arith)) (tabulate-same n (λ i. f (suc i)) (λ i. g (suc i)) (λ i l. h (suc i) (omega arith)))

pub tabulate-constant : {A : Type 0} (n : ℕ) (f : ℕ → A) (x : A) → ((i : ℕ) → f i ≡ x) → tabulate n f ≡ replicate n x
tabulate-constant zero f x h = refl
tabulate-constant (suc n) f x h = ap₂ (λ y ys. y ∷ ys) (h 0) (tabulate-constant n (λ i. f (suc i)) x (λ i. h (suc i)))

-- one element set
pub slice_set-tabulate :
    {A : Type 0} (n i : ℕ) (f g : ℕ → A) (x : A) → g i ≡ x → ((j : ℕ) → j ≢ i → g j ≡ f j) →
    slice_set (tabulate n f) i x ≡ tabulate n g
slice_set-tabulate zero i f g x here other = refl
slice_set-tabulate (suc n) zero f g x here other =
    ap₂ (λ y ys. y ∷ ys) (sym here) (tabulate-same n (λ j. f (suc j)) (λ j. g (suc j)) (λ j l. sym (other (suc j) (λ e. omega arith))))
slice_set-tabulate (suc n) (suc i) f g x here other =
    ap₂ (λ y ys. y ∷ ys) (sym (other 0 (λ e. omega arith)))
    (slice_set-tabulate n i (λ j. f (suc j)) (λ j. g (suc j)) x here (λ j ne. other (suc j) (λ e. ne (omega arith))))

-- a test of all elements by place
pub list_all-tabulate : {A : Type 0} (p : A → Bool) (n : ℕ) (f : ℕ → A) → ((i : ℕ) → i < n → p (f i) ≡ true) → list_all p (tabulate n f) ≡ true
list_all-tabulate p zero f h = refl
list_all-tabulate p (suc n) f h =
    and_from (p (f 0)) (list_all p (tabulate n (λ i. f (suc i)))) (h 0 (omega arith)) (list_all-tabulate p n (λ i. f (suc i)) (λ i l. h (suc i) (omega arith)))

pub list_all_at_place : {A : Type 0} (p : A → Bool) (n : ℕ) (f : ℕ → A) → list_all p (tabulate n f) ≡ true → (i : ℕ) → i < n → p (f i) ≡ true
list_all_at_place p zero f h i l = absurd (omega arith)
list_all_at_place p (suc n) f h zero l = (and_parts (p (f 0)) (list_all p (tabulate n (λ j. f (suc j)))) h).0
list_all_at_place p (suc n) f h (suc i) l =
    list_all_at_place p n (λ j. f (suc j)) (and_parts (p (f 0)) (list_all p (tabulate n (λ j. f (suc j)))) h).1 i (omega arith)

-- a test of all values of a map, and of what a look-up finds
chosen : {A : Type 0} (p : A → Bool) (b : Bool) (x d : A) (o : Option A) → p x ≡ true → p (unwrap_or o d) ≡ true → p (unwrap_or (cond b (Some x) o) d) ≡ true
chosen p true x d o h e = h
chosen p false x d o h e = e

pub list_all-lookup :
    {K A : Type 0} (p : A → Bool) (test : K → Bool) (d : A) (es : List (K × A)) →
    list_all p (values_of es) ≡ true → p d ≡ true → p (unwrap_or (lookup test es) d) ≡ true
list_all-lookup p test d [] h e = e
list_all-lookup p test d (x ∷ es) h e =
    let parts : (p x.1 ≡ true) × (list_all p (values_of es) ≡ true) = and_parts (p x.1) (list_all p (values_of es)) h in
    chosen p (test x.0) x.1 d (lookup test es) parts.0 (list_all-lookup p test d es parts.1 e)

pub list_all_by_place :
    {K A : Type 0} (p : A → Bool) (es : List (K × A)) →
    ((i : ℕ) (k : K) (x : A) → slice_get es i ≡ Some (k, x) → p x ≡ true) → list_all p (values_of es) ≡ true
list_all_by_place p [] h = refl
list_all_by_place p (e ∷ es) h = and_from (p e.1) (list_all p (values_of es)) (h 0 e.0 e.1 refl) (list_all_by_place p es (λ i. h (suc i)))

-- the element changed, and the others
pub slice_get-changed : {A : Type 0} (xs : List A) (i : ℕ) (f : A → A) → slice_get (changed xs i f) i ≡ option_map f (slice_get xs i)
slice_get-changed [] i f = refl
slice_get-changed (x ∷ xs) zero f = refl
slice_get-changed (x ∷ xs) (suc i) f = slice_get-changed xs i f

pub slice_get-changed_other : {A : Type 0} (xs : List A) (i j : ℕ) (f : A → A) → j ≢ i → slice_get (changed xs i f) j ≡ slice_get xs j
slice_get-changed_other [] i j f ne = refl
slice_get-changed_other (x ∷ xs) zero zero f ne = absurd (ne refl)
slice_get-changed_other (x ∷ xs) zero (suc j) f ne = refl
slice_get-changed_other (x ∷ xs) (suc i) zero f ne = refl
slice_get-changed_other (x ∷ xs) (suc i) (suc j) f ne = slice_get-changed_other xs i j f (λ e. ne (ap suc e))

pub length-changed : {A : Type 0} (xs : List A) (i : ℕ) (f : A → A) → length (changed xs i f) ≡ length xs
length-changed [] i f = refl
length-changed (x ∷ xs) zero f = refl
length-changed (x ∷ xs) (suc i) f = ap suc (length-changed xs i f)

-- an element that is there, set to what it is changed to
pub slice_set_changed : {A : Type 0} (xs : List A) (i : ℕ) (f : A → A) (x y : A) → slice_get xs i ≡ Some x → y ≡ f x → slice_set xs i y ≡ changed xs i f
slice_set_changed [] i f x y h e = refl
slice_set_changed (z ∷ xs) zero f x y h e = let same : z ≡ x = cc in ap (λ w. w ∷ xs) (e ∙ ap f (sym same))
slice_set_changed (z ∷ xs) (suc i) f x y h e = ap (λ l. z ∷ l) (slice_set_changed xs i f x y h e)

-- where there is no element nothing changes
pub changed_past : {A : Type 0} (xs : List A) (i : ℕ) (f : A → A) → slice_get xs i ≡ None → changed xs i f ≡ xs
changed_past [] i f h = refl
changed_past (x ∷ xs) zero f h = cc
changed_past (x ∷ xs) (suc i) f h = ap (λ l. x ∷ l) (changed_past xs i f h)
