-- The numbers of names in a list, and tables that have them.
use Rattle.std.proofs.Common.{◌≡◌, ℕ, suc, ◌+◌, ◌<◌, Bool, true, false, ◌||◌, cond, List, [], ◌∷◌, ◌++◌, length, map, take, get_or, Option, None, Some, option_map, refl, ap, sym, ◌∙◌, arith, add-one}
use Rattle.std.specs.Option.{is_some, option_or}
use Rattle.std.specs.List.{list_any}
use Rattle.std.specs.Str.{bytes_eq}
use Rattle.std.proofs.lemmas.Cmp.{nat_list_eq_equiv}
use Rattle.std.proofs.lemmas.Slice.Eq.{bytes_eq-Decides}
use Rattle.std.proofs.lemmas.List.{take_more}
use Rattle.std.proofs.lemmas.List.{map-append, length-take-le, length-map}
use Rattle.vd_judge.specs.Environment.{number_of}
use Rattle.vd_judge.specs.NameTable.{number, Numbers, AddsNew}
use Rattle.vd_judge.specs.declared.names.NameTable.{NameTable}

pub bytes_eq_comm : (a b : List ℕ) → bytes_eq a b ≡ bytes_eq b a
bytes_eq_comm a b = nat_list_eq_equiv.symm a b

option_or-none : (a : Option ℕ) → option_or a None ≡ a
option_or-none None = refl
option_or-none (Some a) = refl

shifted : (a : Option ℕ) (b : Bool) (k m : ℕ) → m ≡ k + 1 → option_map (λ j. j + 1) (option_or a (cond b (Some k) None)) ≡ option_or (option_map (λ j. j + 1) a) (cond b (Some m) None)
shifted None true k m e = ap Some (sym e)
shifted None false k m e = refl
shifted (Some a) b k m e = refl

-- ---- numbers

number_of-append : (ns : List (List ℕ)) (n other : List ℕ) → number_of (ns ++ n ∷ []) other ≡ option_or (number_of ns other) (cond (bytes_eq n other) (Some (length ns)) None)
number_of-append [] n other = refl
number_of-append (m ∷ ms) n other = go (bytes_eq m other) (number_of-append ms n other) where
  go : (b : Bool) → number_of (ms ++ n ∷ []) other ≡ option_or (number_of ms other) (cond (bytes_eq n other) (Some (length ms)) None)
      → cond b (Some 0) (option_map (λ j. j + 1) (number_of (ms ++ n ∷ []) other)) ≡ option_or (cond b (Some 0) (option_map (λ j. j + 1) (number_of ms other))) (cond (bytes_eq n other) (Some (suc (length ms))) None)
  go true e = refl
  go false e = ap (option_map (λ j. j + 1)) e ∙ shifted (number_of ms other) (bytes_eq n other) (length ms) (suc (length ms)) (sym (add-one (length ms)))

-- a new name gets the next number
pub number_of-new : (ns : List (List ℕ)) (n other : List ℕ) → number_of ns n ≡ None → number_of (ns ++ n ∷ []) other ≡ cond (bytes_eq n other) (Some (length ns)) (number_of ns other)
number_of-new ns n other fresh = number_of-append ns n other ∙ go (bytes_eq n other) refl where
  go : (b : Bool) → bytes_eq n other ≡ b → option_or (number_of ns other) (cond b (Some (length ns)) None) ≡ cond b (Some (length ns)) (number_of ns other)
  go true e = ap (λ o. option_or o (Some (length ns))) (ap (number_of ns) (sym ((bytes_eq-Decides n other).0 e)) ∙ fresh)
  go false e = option_or-none (number_of ns other)

pub is_some-number_of : (ns : List (List ℕ)) (n : List ℕ) → is_some (number_of ns n) ≡ list_any (bytes_eq n) ns
is_some-number_of [] n = refl
is_some-number_of (m ∷ ms) n = go (bytes_eq m n) (bytes_eq n m) (bytes_eq_comm m n) (number_of ms n) (is_some-number_of ms n) where
  go : (b d : Bool) → b ≡ d → (o : Option ℕ) → is_some o ≡ list_any (bytes_eq n) ms → is_some (cond b (Some 0) (option_map (λ j. j + 1) o)) ≡ (d || list_any (bytes_eq n) ms)
  go true true e o h = refl
  go true false e o h = cc
  go false true e o h = cc
  go false false e None h = h
  go false false e (Some k) h = h

-- ---- a table of the names of a list

map_more : {A : Type 0} (p : A → List ℕ) (xs : List A) (k : ℕ) (x : A) → k < length xs → x ≡ get_or xs k x → map p (take (k + 1) xs) ≡ map p (take k xs) ++ p x ∷ []
map_more p xs k x within at = ap (map p) (take_more xs k x within) ∙ (map-append p (take k xs) (get_or xs k x ∷ []) ∙ ap (λ y. map p (take k xs) ++ p y ∷ []) (sym at))

length_map_take : {A : Type 0} (p : A → List ℕ) (xs : List A) (k : ℕ) → k < length xs → length (map p (take k xs)) ≡ k
length_map_take p xs k within = length-map (take k xs) p ∙ length-take-le k xs (omega arith)

-- the next name is added, unless it is there
pub numbers_more : {A : Type 0} (p : A → List ℕ) (table table' : NameTable) (xs : List A) (k : ℕ) (x : A) (name : List ℕ) → k < length xs → x ≡ get_or xs k x → name ≡ p x
    → Numbers table (map p (take k xs)) → AddsNew table table' name k → Numbers table' (map p (take (k + 1) xs))
numbers_more p table table' xs k x name within at named before new other =
    new other ∙ (ap (λ o. option_or o (cond (bytes_eq name other) (Some k) None)) (before other)
    ∙ (ap (λ n. option_or (number_of (map p (take k xs)) other) (cond (bytes_eq n other) (Some k) None)) named
    ∙ (ap (λ j. option_or (number_of (map p (take k xs)) other) (cond (bytes_eq (p x) other) (Some j) None)) (sym (length_map_take p xs k within))
    ∙ sym (ap (λ ns. number_of ns other) (map_more p xs k x within at) ∙ number_of-append (map p (take k xs)) (p x) other))))

-- a name that is there stays as it is
pub stays_new : (table : NameTable) (name : List ℕ) (k : ℕ) → is_some (number table name) ≡ true → AddsNew table table name k
stays_new table name k h other = go (bytes_eq name other) refl where
  some : (o : Option ℕ) → is_some o ≡ true → o ≡ option_or o (Some k)
  some None e = cc
  some (Some j) e = refl

  go : (b : Bool) → bytes_eq name other ≡ b → number table other ≡ option_or (number table other) (cond b (Some k) None)
  go true e = some (number table other) (ap (λ n. is_some (number table n)) (sym ((bytes_eq-Decides name other).0 e)) ∙ h)
  go false e = sym (option_or-none (number table other))

-- a name that is not there is added
pub fresh_new : (table table' : NameTable) (name : List ℕ) (k : ℕ) → is_some (number table name) ≡ false
    → ((other : List ℕ) → number table' other ≡ cond (bytes_eq name other) (Some k) (number table other)) → AddsNew table table' name k
fresh_new table table' name k h updated other = updated other ∙ go (bytes_eq name other) refl where
  none : (o : Option ℕ) → is_some o ≡ false → Some k ≡ option_or o (Some k)
  none None e = refl
  none (Some j) e = cc

  go : (b : Bool) → bytes_eq name other ≡ b → cond b (Some k) (number table other) ≡ option_or (number table other) (cond b (Some k) None)
  go true e = none (number table other) (ap (λ n. is_some (number table n)) (sym ((bytes_eq-Decides name other).0 e)) ∙ h)
  go false e = sym (option_or-none (number table other))
