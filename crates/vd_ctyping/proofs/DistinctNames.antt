-- Names of a function and its variables, of which none stands twice.
use Rattle.std.proofs.Common.{◌≡◌, ℕ, suc, ◌+◌, ◌<◌, Bool, true, false, not, ◌&&◌, ◌||◌, cond, List, [], ◌∷◌, ◌++◌, length, take, drop, get_or, drop-cons, Option, None, Some, refl, ap, sym, ◌∙◌, arith}
use Rattle.std.specs.Option.{is_some, is_none}
use Rattle.std.specs.List.{list_any}
use Rattle.std.specs.Str.{bytes_eq}
use Rattle.std.proofs.lemmas.List.{take-append-drop, take_more}
use Rattle.std.proofs.lemmas.List.{length-append, length-take-le, length-map}
use Rattle.std.proofs.lemmas.List.Folds.{list_any-append}
use Rattle.vd_clight.specs.declared.syntax.FnText.{FnText}
use Rattle.vd_judge.specs.Environment.{number_of, names_of}
use Rattle.vd_judge.specs.NameTable.{number, Numbers}
use Rattle.vd_judge.specs.declared.names.NameTable.{NameTable}
use Rattle.vd_judge.proofs.NameLaws.{bytes_eq_comm, is_some-number_of, number_of-new}
use Rattle.vd_ctyping.specs.Function.{are_distinct, variables}

and_false : (b : Bool) → (b && false) ≡ false
and_false true = refl
and_false false = refl

or_true : (b : Bool) → (b || true) ≡ true
or_true true = refl
or_true false = refl

not_and_parts : (a b : Bool) → (not a && b) ≡ true → (a ≡ false) × (b ≡ true)
not_and_parts true b h = cc
not_and_parts false b h = (refl, h)

or_parts : (a b : Bool) → (a || b) ≡ false → (a ≡ false) × (b ≡ false)
or_parts true b h = cc
or_parts false b h = (refl, h)

stands_behind : (ms zs : List (List ℕ)) (n m : List ℕ) → bytes_eq n m ≡ true → list_any (bytes_eq m) (ms ++ n ∷ zs) ≡ true
stands_behind ms zs n m e = list_any-append (bytes_eq m) ms (n ∷ zs) ∙ (ap (λ b. list_any (bytes_eq m) ms || (b || list_any (bytes_eq m) zs)) (bytes_eq_comm m n ∙ e) ∙ or_true (list_any (bytes_eq m) ms))

twice_at : (ms zs : List (List ℕ)) (n m : List ℕ) (b : Bool) → bytes_eq n m ≡ b → (b || list_any (bytes_eq n) ms) ≡ true
    → (list_any (bytes_eq n) ms ≡ true → are_distinct (ms ++ n ∷ zs) ≡ false) → are_distinct (m ∷ (ms ++ n ∷ zs)) ≡ false
twice_at ms zs n m true e h later = ap (λ b. not b && are_distinct (ms ++ n ∷ zs)) (stands_behind ms zs n m e)
twice_at ms zs n m false e h later = ap (λ b. not (list_any (bytes_eq m) (ms ++ n ∷ zs)) && b) (later h) ∙ and_false (not (list_any (bytes_eq m) (ms ++ n ∷ zs)))

-- a name that stands before stands twice
pub are_distinct-repeated : (ns zs : List (List ℕ)) (n : List ℕ) → list_any (bytes_eq n) ns ≡ true → are_distinct (ns ++ n ∷ zs) ≡ false
are_distinct-repeated [] zs n h = cc
are_distinct-repeated (m ∷ ms) zs n h = twice_at ms zs n m (bytes_eq n m) refl h (are_distinct-repeated ms zs n)

-- a new name keeps them distinct
pub are_distinct-new : (ns : List (List ℕ)) (n : List ℕ) → are_distinct ns ≡ true → list_any (bytes_eq n) ns ≡ false → are_distinct (ns ++ n ∷ []) ≡ true
are_distinct-new [] n d h = refl
are_distinct-new (m ∷ ms) n d h =
    let before = not_and_parts (list_any (bytes_eq m) ms) (are_distinct ms) d in
    let apart = or_parts (bytes_eq n m) (list_any (bytes_eq n) ms) h in
    let rest : are_distinct (ms ++ n ∷ []) ≡ true = are_distinct-new ms n before.1 apart.1 in
    let none : list_any (bytes_eq m) (ms ++ n ∷ []) ≡ false = list_any-append (bytes_eq m) ms (n ∷ []) ∙ (ap (λ b. b || (bytes_eq m n || false)) before.0 ∙ ap (λ b. b || false) (bytes_eq_comm m n ∙ apart.0)) in
    ap (λ b. not b && are_distinct (ms ++ n ∷ [])) none ∙ rest

none_from : (o : Option ℕ) → is_some o ≡ false → o ≡ None
none_from None e = refl
none_from (Some a) e = cc

some_from : (o : Option ℕ) → is_none o ≡ false → is_some o ≡ true
some_from None e = cc
some_from (Some a) e = refl

no_some_from : (o : Option ℕ) → is_none o ≡ true → is_some o ≡ false
no_some_from None e = refl
no_some_from (Some a) e = cc

names_split : (names : List (List ℕ)) (k : ℕ) (n : List ℕ) → k < length names → n ≡ get_or names k n → names ≡ take k names ++ n ∷ drop (suc k) names
names_split names k n within at = sym (take-append-drop k names) ∙ ap (λ ns. take k names ++ ns) (drop-cons names k n within ∙ ap (λ m. m ∷ drop (suc k) names) (sym at))

names_more : (names : List (List ℕ)) (k : ℕ) (n : List ℕ) → k < length names → n ≡ get_or names k n → take (k + 1) names ≡ take k names ++ n ∷ []
names_more names k n within at = take_more names k n within ∙ ap (λ m. take k names ++ m ∷ []) (sym at)

-- the names up to a place stand once, and the table has their numbers
pub record SoFar (table : NameTable) (function : List ℕ) (names : List (List ℕ)) : Type 0 where
  pub distinct : are_distinct (function ∷ names) ≡ true
  pub numbers : Numbers table names

module _ (table table' : NameTable) (function name : List ℕ) (names : List (List ℕ)) (k : ℕ) (n : List ℕ) (within : k < length names) (at : n ≡ get_or names k n) (named : name ≡ n) (before : SoFar table function (take k names)) where
  known : is_some (number table name) ≡ list_any (bytes_eq name) (take k names)
  known = ap is_some (before.numbers name) ∙ is_some-number_of (take k names) name

  -- the function's name or an earlier one
  twice : list_any (bytes_eq name) (function ∷ take k names) ≡ true → are_distinct (function ∷ names) ≡ false
  twice h = ap (λ ns. are_distinct (function ∷ ns)) (names_split names k n within at)
      ∙ are_distinct-repeated (function ∷ take k names) (drop (suc k) names) n (ap (λ m. list_any (bytes_eq m) (function ∷ take k names)) (sym named) ∙ h)

  pub own_name_again : bytes_eq name function ≡ true → are_distinct (function ∷ names) ≡ false
  own_name_again e = twice (ap (λ b. b || list_any (bytes_eq name) (take k names)) e)

  pub known_name_again : is_none (number table name) ≡ false → are_distinct (function ∷ names) ≡ false
  known_name_again e = twice (ap (λ b. bytes_eq name function || b) (sym known ∙ some_from (number table name) e) ∙ or_true (bytes_eq name function))

  module _ (apart : bytes_eq name function ≡ false) (new : is_none (number table name) ≡ true) where
    fresh : is_some (number table name) ≡ false
    fresh = no_some_from (number table name) new

    distinct_more : are_distinct (function ∷ take (k + 1) names) ≡ true
    distinct_more = ap (λ ns. are_distinct (function ∷ ns)) (names_more names k n within at)
        ∙ are_distinct-new (function ∷ take k names) n before.distinct (ap (λ m. list_any (bytes_eq m) (function ∷ take k names)) (sym named) ∙ (ap (λ b. b || list_any (bytes_eq name) (take k names)) apart ∙ (sym known ∙ fresh)))

    numbered_more : (other : List ℕ) → number_of (take (k + 1) names) other ≡ cond (bytes_eq name other) (Some k) (number table other)
    numbered_more other =
        ap (λ ns. number_of ns other) (names_more names k n within at ∙ ap (λ m. take k names ++ m ∷ []) (sym named))
        ∙ (number_of-new (take k names) name other (none_from (number_of (take k names) name) (ap is_some (sym (before.numbers name)) ∙ fresh))
        ∙ (ap (λ j. cond (bytes_eq name other) (Some j) (number_of (take k names) other)) (length-take-le k names (omega arith)) ∙ ap (λ o. cond (bytes_eq name other) (Some k) o) (sym (before.numbers other))))

    pub so_far_more : ((other : List ℕ) → number table' other ≡ cond (bytes_eq name other) (Some k) (number table other)) → SoFar table' function (take (k + 1) names)
    so_far_more updated = record { distinct = distinct_more; numbers = λ other. updated other ∙ sym (numbered_more other) }

-- each variable has a name
pub variables_count : (f : FnText) → length (variables f) ≡ length f.params + length f.temps
variables_count f = omega (arith, length-append (names_of f.params) (names_of f.temps), length-map f.params (λ v. v.name), length-map f.temps (λ v. v.name))
