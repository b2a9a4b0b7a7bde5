-- The laws: each a template over variables 0, 1, .. for its arguments.
use Rattle.std.specs.List.{find, list_all}
use Rattle.std.specs.Prelude.{Bool, List, None, Option, Some, [], codes, false, int_le, map, negsuc, pos, slice_index_or, true, ℕ, ℤ, ◌++◌, ◌∷◌}
use Rattle.std.specs.Str.{bytes_eq}
use Rattle.vd_logic.specs.declared.assertion.Rel.TheVariants as rel
use Rattle.vd_logic.specs.declared.term.Sort.{Sort}
use Rattle.vd_logic.specs.declared.term.Sort.TheVariants as sort
use Rattle.vd_terms.specs.Assertions.{Fact, map_fact}
use Rattle.vd_terms.specs.Replacing.{substituted}
use Rattle.vd_terms.specs.Terms.{Name, Nil, Number, Of, Of2, Of3, Term, Undef, Var}
use Rattle.vd_terms.specs.declared.assertion.FactOf.TheVariants.{Each, IsInt, IsPtr, Rel}
use Rattle.vd_terms.specs.declared.operation.Binary.TheVariants.{Add, App, Band, Cons, Eq, Le, Lt, Mul, Nth, Off, Quot, Rem, Rep, Sub}
use Rattle.vd_terms.specs.declared.operation.Ternary.TheVariants.{Slice, Upd}
use Rattle.vd_terms.specs.declared.operation.Unary.TheVariants.{Len, Num, Rev, Sum, Unum, Vi}
use Rattle.vd_rules.specs.Normal.{normal}

abbrev int : Sort
int = sort.Int

abbrev val : Sort
val = sort.Val

abbrev list : Sort
list = sort.List

-- an argument that has to be a number, and the least that it may be, where there is one
pub record Numeral : Type 0 where
  pub place : ℕ
  pub least : Option ℤ

-- a law: the sorts of its arguments, which are its variables from 0, and its conditions in the order in which they are owed
pub record LawRule : Type 0 where
  pub name : Name
  pub sorts : List Sort
  pub numerals : List Numeral
  pub conditions : List Fact
  pub conclusion : Fact

abbrev pub law : Name → List Sort → List Fact → Fact → LawRule
law n sorts cs c = record { name = n; sorts = sorts; numerals = []; conditions = cs; conclusion = c }

-- where the argument k is a number of at least 1
abbrev pub law_of_divisor : Name → List Fact → Fact → LawRule
law_of_divisor n cs c = record {
  name = n;
  sorts = int ∷ int ∷ [];
  numerals = record { place = 1; least = Some (pos 1) } ∷ [];
  conditions = cs;
  conclusion = c;
}

-- where the arguments a and b are numbers
abbrev pub law_of_bounds : Name → Fact → Fact → LawRule
law_of_bounds n c d = record {
  name = n;
  sorts = list ∷ int ∷ int ∷ [];
  numerals = record { place = 1; least = None } ∷ record { place = 2; least = None } ∷ [];
  conditions = c ∷ [];
  conclusion = d;
}

abbrev i0 : Term
i0 = Var 0 sort.Int

abbrev i1 : Term
i1 = Var 1 sort.Int

abbrev i2 : Term
i2 = Var 2 sort.Int

abbrev i3 : Term
i3 = Var 3 sort.Int

abbrev i4 : Term
i4 = Var 4 sort.Int

abbrev v0 : Term
v0 = Var 0 sort.Val

abbrev v2 : Term
v2 = Var 2 sort.Val

abbrev v3 : Term
v3 = Var 3 sort.Val

abbrev l0 : Term
l0 = Var 0 sort.List

abbrev l1 : Term
l1 = Var 1 sort.List

abbrev l2 : Term
l2 = Var 2 sort.List

abbrev l3 : Term
l3 = Var 3 sort.List

abbrev num : ℕ → Term
num n = Number (pos n)

abbrev eq : Term → Term → Fact
eq a b = Rel rel.Eq a b

abbrev ne : Term → Term → Fact
ne a b = Rel rel.Ne a b

abbrev le : Term → Term → Fact
le a b = Rel rel.Le a b

abbrev lt : Term → Term → Fact
lt a b = Rel rel.Lt a b

-- the bounds S and U
abbrev signed_bounds : Term → List Fact
signed_bounds a = le (Number (negsuc 2147483647)) a ∷ le a (num 2147483647) ∷ []

abbrev unsigned_bounds : Term → List Fact
unsigned_bounds a = le (num 0) a ∷ le a (num 4294967295) ∷ []

-- i is a place of the list
abbrev is_place : Term → Term → List Fact
is_place i l = le (num 0) i ∷ lt i (Of Len l) ∷ []

-- k*quot(a,k)
abbrev whole_part : Term
whole_part = Of2 Mul i1 (Of2 Quot i0 i1)

abbrev ints : List Sort
ints = int ∷ int ∷ []

abbrev pub laws_of_integers : List LawRule
laws_of_integers =
    law (codes "ne_lt") ints (ne i0 i1 ∷ le i0 i1 ∷ []) (lt i0 i1)
    ∷ law (codes "lt_one") ints (lt i0 i1 ∷ []) (eq (Of2 Lt i0 i1) (num 1))
    ∷ law (codes "le_one") ints (le i0 i1 ∷ []) (eq (Of2 Le i0 i1) (num 1))
    ∷ law (codes "eq_one") ints (eq i0 i1 ∷ []) (eq (Of2 Eq i0 i1) (num 1))
    ∷ law (codes "lt_zero") ints (le i1 i0 ∷ []) (eq (Of2 Lt i0 i1) (num 0))
    ∷ law (codes "le_zero") ints (lt i1 i0 ∷ []) (eq (Of2 Le i0 i1) (num 0))
    ∷ law (codes "eq_zero") ints (ne i0 i1 ∷ []) (eq (Of2 Eq i0 i1) (num 0))
    ∷ law_of_divisor (codes "quot_lo") (le (num 0) i0 ∷ []) (le whole_part i0)
    ∷ law_of_divisor (codes "quot_hi") (le (num 0) i0 ∷ []) (le i0 (Of2 Sub (Of2 Add whole_part i1) (num 1)))
    ∷ law_of_divisor (codes "rem_eq") (le (num 0) i0 ∷ []) (eq (Of2 Rem i0 i1) (Of2 Sub i0 whole_part))
    ∷ law (codes "band_lo") ints (unsigned_bounds i1) (le (num 0) (Of2 Band i0 i1))
    ∷ law (codes "band_hi") ints (unsigned_bounds i1) (le (Of2 Band i0 i1) i1)
    ∷ []

abbrev pub laws_of_values : List LawRule
laws_of_values =
    law (codes "int_vi") (val ∷ []) (IsInt v0 ∷ []) (eq v0 (Of Vi (Of Num v0)))
    ∷ law (codes "int_vu") (val ∷ []) (IsInt v0 ∷ []) (eq v0 (Of Vi (Of Unum v0)))
    ∷ law (codes "num_lo") (val ∷ []) [] (le (Number (negsuc 2147483647)) (Of Num v0))
    ∷ law (codes "num_hi") (val ∷ []) [] (le (Of Num v0) (num 2147483647))
    ∷ law (codes "unum_lo") (val ∷ []) [] (le (num 0) (Of Unum v0))
    ∷ law (codes "unum_hi") (val ∷ []) [] (le (Of Unum v0) (num 4294967295))
    ∷ law (codes "num_vi") (int ∷ []) (signed_bounds i0) (eq (Of Num (Of Vi i0)) i0)
    ∷ law (codes "unum_vi") (int ∷ []) (unsigned_bounds i0) (eq (Of Unum (Of Vi i0)) i0)
    ∷ law (codes "vi_wrap") ints [] (eq (Of Vi i0) (Of Vi (Of2 Add i0 (Of2 Mul (num 4294967296) i1))))
    ∷ law (codes "vi_inj") ints (eq (Of Vi i0) (Of Vi i1) ∷ (signed_bounds i0 ++ signed_bounds i1)) (eq i0 i1)
    ∷ law (codes "vu_inj") ints (eq (Of Vi i0) (Of Vi i1) ∷ (unsigned_bounds i0 ++ unsigned_bounds i1)) (eq i0 i1)
    ∷ law (codes "ptr_null") (val ∷ []) (IsPtr v0 ∷ []) (ne v0 (Of Vi (num 0)))
    ∷ law (codes "ptr_int") (val ∷ []) (IsPtr v0 ∷ IsInt v0 ∷ []) (le (num 1) (num 0))
    ∷ law (codes "off_inj") (val ∷ int ∷ int ∷ []) (IsPtr v0 ∷ eq (Of2 Off v0 i1) (Of2 Off v0 i2) ∷ []) (eq i1 i2)
    ∷ []

abbrev pub laws_of_lists : List LawRule
laws_of_lists =
    law (codes "app_nil") (list ∷ []) [] (eq (Of2 App l0 Nil) l0)
    ∷ law (codes "app_assoc") (list ∷ list ∷ list ∷ []) [] (eq (Of2 App (Of2 App l0 l1) l2) (Of2 App l0 (Of2 App l1 l2)))
    ∷ law (codes "rev_cons") (val ∷ list ∷ []) [] (eq (Of Rev (Of2 Cons v0 l1)) (Of2 App (Of Rev l1) (Of2 Cons v0 Nil)))
    ∷ law (codes "rev_app") (list ∷ list ∷ []) [] (eq (Of Rev (Of2 App l0 l1)) (Of2 App (Of Rev l1) (Of Rev l0)))
    ∷ law (codes "rev_rev") (list ∷ []) [] (eq (Of Rev (Of Rev l0)) l0)
    ∷ law (codes "len_pos") (list ∷ []) [] (le (num 0) (Of Len l0))
    ∷ law (codes "len_rev") (list ∷ []) [] (eq (Of Len (Of Rev l0)) (Of Len l0))
    ∷ law (codes "len_zero") (list ∷ []) (eq (Of Len l0) (num 0) ∷ []) (eq l0 Nil)
    ∷ law (codes "len_upd") (list ∷ int ∷ val ∷ []) [] (eq (Of Len (Of3 Upd l0 i1 v2)) (Of Len l0))
    ∷ law (codes "len_rep") (val ∷ int ∷ []) (le (num 0) i1 ∷ []) (eq (Of Len (Of2 Rep v0 i1)) i1)
    ∷ law (codes "cons_head") (val ∷ list ∷ val ∷ list ∷ []) (eq (Of2 Cons v0 l1) (Of2 Cons v2 l3) ∷ []) (eq v0 v2)
    ∷ law (codes "cons_tail") (val ∷ list ∷ val ∷ list ∷ []) (eq (Of2 Cons v0 l1) (Of2 Cons v2 l3) ∷ []) (eq l1 l3)
    ∷ law (codes "list_cons") (list ∷ []) (le (num 1) (Of Len l0) ∷ [])
    (eq l0 (Of2 Cons (Of2 Nth l0 (num 0)) (Of3 Slice l0 (num 1) (Of Len l0))))
    ∷ law (codes "upd_same") (list ∷ int ∷ val ∷ []) (is_place i1 l0) (eq (Of2 Nth (Of3 Upd l0 i1 v2) i1) v2)
    ∷ law (codes "upd_other") (list ∷ int ∷ int ∷ val ∷ []) (ne i1 i2 ∷ []) (eq (Of2 Nth (Of3 Upd l0 i1 v3) i2) (Of2 Nth l0 i2))
    ∷ law (codes "nth_rep") (val ∷ int ∷ int ∷ []) (le (num 0) i2 ∷ lt i2 i1 ∷ []) (eq (Of2 Nth (Of2 Rep v0 i1) i2) v0)
    ∷ law (codes "sub_all") (list ∷ []) [] (eq (Of3 Slice l0 (num 0) (Of Len l0)) l0)
    ∷ law (codes "sub_one") (list ∷ int ∷ []) (is_place i1 l0) (eq (Of3 Slice l0 i1 (Of2 Add i1 (num 1))) (Of2 Cons (Of2 Nth l0 i1) Nil))
    ∷ law (codes "sub_len") (list ∷ int ∷ int ∷ []) (le (num 0) i1 ∷ le i1 i2 ∷ le i2 (Of Len l0) ∷ [])
    (eq (Of Len (Of3 Slice l0 i1 i2)) (Of2 Sub i2 i1))
    ∷ law (codes "sub_split") (list ∷ int ∷ int ∷ int ∷ []) (le (num 0) i1 ∷ le i1 i2 ∷ le i2 i3 ∷ le i3 (Of Len l0) ∷ [])
    (eq (Of3 Slice l0 i1 i3) (Of2 App (Of3 Slice l0 i1 i2) (Of3 Slice l0 i2 i3)))
    ∷ []

abbrev pub laws_of_elements : List LawRule
laws_of_elements =
    law (codes "sum_cons") (val ∷ list ∷ []) [] (eq (Of Sum (Of2 Cons v0 l1)) (Of2 Add (Of Num v0) (Of Sum l1)))
    ∷ law (codes "sum_app") (list ∷ list ∷ []) [] (eq (Of Sum (Of2 App l0 l1)) (Of2 Add (Of Sum l0) (Of Sum l1)))
    ∷ law (codes "each_int") (list ∷ int ∷ int ∷ int ∷ []) (Each l0 i1 i2 ∷ is_place i3 l0) (IsInt (Of2 Nth l0 i3))
    ∷ law (codes "each_lo") (list ∷ int ∷ int ∷ int ∷ []) (Each l0 i1 i2 ∷ is_place i3 l0) (le i1 (Of Num (Of2 Nth l0 i3)))
    ∷ law (codes "each_hi") (list ∷ int ∷ int ∷ int ∷ []) (Each l0 i1 i2 ∷ is_place i3 l0) (le (Of Num (Of2 Nth l0 i3)) i2)
    ∷ law (codes "each_sub") (list ∷ int ∷ int ∷ int ∷ int ∷ []) (Each l0 i1 i2 ∷ []) (Each (Of3 Slice l0 i3 i4) i1 i2)
    ∷ law_of_bounds (codes "sum_lo") (Each l0 i1 i2) (le (Of2 Mul i1 (Of Len l0)) (Of Sum l0))
    ∷ law_of_bounds (codes "sum_hi") (Each l0 i1 i2) (le (Of Sum l0) (Of2 Mul i2 (Of Len l0)))
    ∷ []

-- the law table
abbrev pub laws : List LawRule
laws = laws_of_integers ++ (laws_of_values ++ (laws_of_lists ++ laws_of_elements))

-- the first of a name
unfoldable pub law_named : Name → Option LawRule
law_named name = find (λ r. bytes_eq r.name name) laws

-- an argument in normal form is a number as the law asks
abbrev pub is_numeral : Option ℤ → Term → Bool
is_numeral None (Number n) = true
is_numeral (Some least) (Number n) = int_le least n
is_numeral least t = false

-- the arguments that have to be numbers are
unfoldable pub are_numerals : LawRule → List Term → Bool
are_numerals r args = list_all (λ n. is_numeral n.least (slice_index_or args n.place Undef)) r.numerals

-- a condition or the conclusion with the arguments for its variables, in normal form
abbrev pub instance_fact : List Term → Fact → Fact
instance_fact args p = map_fact (λ t. normal (substituted args t)) p

-- the conditions and the conclusion of a law with its arguments
unfoldable pub instance : LawRule → List Term → List Fact × Fact
instance r args = (map (instance_fact args) r.conditions, instance_fact args r.conclusion)
