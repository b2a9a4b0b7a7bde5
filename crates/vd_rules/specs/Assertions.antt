-- Facts and items: their terms, when two are equal, and their sorts.
use Rattle.std.specs.List.{list_all}
use Rattle.std.specs.Prelude.{Bool, List, None, Option, Some, [], false, true, ◌&&◌, ◌++◌, ◌||◌, ◌∷◌}
use Rattle.std.specs.Str.{bytes_eq}
use Rattle.vd_logic.specs.declared.assertion.Rel.TheVariants as rel
use Rattle.vd_logic.specs.declared.term.Sort.{Sort}
use Rattle.vd_logic.specs.declared.term.Sort.TheVariants as sort
use Rattle.vd_terms.specs.Assertions.{Assertion, Fact, Item, Label, Predicate, Scope, predicate_named}
use Rattle.vd_terms.specs.Sorts.{has_sort, same_sort}
use Rattle.vd_terms.specs.Terms.{Name, Term}
use Rattle.vd_terms.specs.declared.assertion.FactOf.TheVariants.{Each, IsInt, IsPtr, Rel}
use Rattle.vd_terms.specs.declared.assertion.ItemOf.TheVariants.{Data, Holds, Lock, Pred, Token}
use Rattle.vd_rules.specs.TermOrder.{same}

abbrev pub fact_terms : Fact → List Term
fact_terms (Rel r a b) = a ∷ b ∷ []
fact_terms (IsInt v) = v ∷ []
fact_terms (IsPtr v) = v ∷ []
fact_terms (Each l a b) = l ∷ a ∷ b ∷ []

abbrev pub item_terms : Item → List Term
item_terms (Data s p l) = s ∷ p ∷ l ∷ []
item_terms (Lock s p l) = s ∷ p ∷ l.args
item_terms (Holds p l) = p ∷ l.args
item_terms (Token p n) = p ∷ n ∷ []
item_terms (Pred l) = l.args

abbrev pub joined : {A B : Type 0} → (A → List B) → List A → List B
joined f [] = []
joined f (x ∷ xs) = f x ++ joined f xs

-- ---- equality

abbrev pub same_terms : List Term → List Term → Bool
same_terms [] [] = true
same_terms (t ∷ ts) (u ∷ us) = same t u && same_terms ts us
same_terms ts us = false

abbrev pub same_label : Label → Label → Bool
same_label l m = bytes_eq l.name m.name && same_terms l.args m.args

abbrev pub same_item : Item → Item → Bool
same_item (Data s p l) (Data t q m) = same s t && (same p q && same l m)
same_item (Lock s p l) (Lock t q m) = same s t && (same p q && same_label l m)
same_item (Holds p l) (Holds q m) = same p q && same_label l m
same_item (Token p n) (Token q m) = same p q && same n m
same_item (Pred l) (Pred m) = same_label l m
same_item i j = false

-- ---- condition 1: sorts

abbrev pub same_sorts : List Sort → List Sort → Bool
same_sorts [] [] = true
same_sorts (s ∷ ss) (t ∷ ts) = same_sort s t && same_sorts ss ts
same_sorts ss ts = false

abbrev pub have_sorts : List Sort → List Term → Bool
have_sorts [] [] = true
have_sorts (s ∷ ss) (t ∷ ts) = has_sort s t && have_sorts ss ts
have_sorts ss ts = false

-- well sorted, of any sort
abbrev pub is_sorted : Term → Bool
is_sorted t = has_sort sort.Int t || (has_sort sort.Val t || has_sort sort.List t)

abbrev pub of_one_sort : Term → Term → Bool
of_one_sort a b =
    (has_sort sort.Int a && has_sort sort.Int b) || ((has_sort sort.Val a && has_sort sort.Val b) || (has_sort sort.List a && has_sort sort.List b))

abbrev pub is_sorted_fact : Fact → Bool
is_sorted_fact (Rel rel.Eq a b) = of_one_sort a b
is_sorted_fact (Rel rel.Ne a b) = of_one_sort a b
is_sorted_fact (Rel r a b) = has_sort sort.Int a && has_sort sort.Int b
is_sorted_fact (IsInt v) = has_sort sort.Val v
is_sorted_fact (IsPtr v) = has_sort sort.Val v
is_sorted_fact (Each l a b) = has_sort sort.List l && (has_sort sort.Int a && has_sort sort.Int b)

-- a label's arguments are sorted, and of its predicate's sorts where that is declared
abbrev pub fits_predicate : Option Predicate → List Term → Bool
fits_predicate None args = list_all is_sorted args
fits_predicate (Some p) args = have_sorts p.args args

abbrev pub is_sorted_label : Scope → Label → Bool
is_sorted_label scope l = fits_predicate (predicate_named scope l.name) l.args

abbrev pub is_sorted_item : Scope → Item → Bool
is_sorted_item scope (Data s p l) = has_sort sort.Int s && (has_sort sort.Val p && has_sort sort.List l)
is_sorted_item scope (Lock s p l) = has_sort sort.Int s && (has_sort sort.Val p && is_sorted_label scope l)
is_sorted_item scope (Holds p l) = has_sort sort.Val p && is_sorted_label scope l
is_sorted_item scope (Token p n) = has_sort sort.Val p && has_sort sort.Int n
is_sorted_item scope (Pred l) = is_sorted_label scope l

abbrev pub is_sorted_local : Name × Term → Bool
is_sorted_local x = has_sort sort.Val x.1

abbrev pub is_sorted_assertion : Scope → Assertion → Bool
is_sorted_assertion scope a = list_all is_sorted_fact a.facts && (list_all is_sorted_local a.locals && list_all (is_sorted_item scope) a.items)
