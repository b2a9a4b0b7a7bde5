-- Lists and states with one thing changed.
use Rattle.std.specs.List.{list_all, list_any, sum_by}
use Rattle.std.specs.Option.{option_map}
use Rattle.std.specs.Prelude.{Bool, List, None, Option, Some, [], false, length, map, nat_eq, nat_le, not, slice_get, suc, true, zero, ℕ, ◌&&◌, ◌++◌, ◌∷◌}
use Rattle.std.specs.Str.{bytes_eq}
use Rattle.vd_logic.specs.declared.term.Sort.{Sort}
use Rattle.vd_terms.specs.Assertions.{Fact, Item, map_fact, map_item}
use Rattle.vd_terms.specs.States.{State, count}
use Rattle.vd_terms.specs.Terms.{Name, Term, Var}
use Rattle.vd_rules.specs.Assertions.{fact_terms, item_terms, joined}
use Rattle.vd_rules.specs.Normal.{normal}
use Rattle.vd_rules.specs.Occurring.{height, nodes}

abbrev pub without : {A : Type 0} → ℕ → List A → List A
without n [] = []
without zero (x ∷ xs) = xs
without (suc n) (x ∷ xs) = x ∷ without n xs

-- without those at the numbers, which are different
abbrev pub without_two : {A : Type 0} → ℕ → ℕ → List A → List A
without_two n m [] = []
without_two zero zero (x ∷ xs) = xs
without_two zero (suc m) (x ∷ xs) = without m xs
without_two (suc n) zero (x ∷ xs) = without n xs
without_two (suc n) (suc m) (x ∷ xs) = x ∷ without_two n m xs

-- a list with its element at the number changed
abbrev pub changed : {A : Type 0} → ℕ → (A → A) → List A → List A
changed n f [] = []
changed zero f (x ∷ xs) = f x ∷ xs
changed (suc n) f (x ∷ xs) = x ∷ changed n f xs

-- ---- PROP

-- facts more, in normal form
unfoldable pub add_facts : List Fact → State → State
add_facts ps s = record s { facts = s.facts ++ map (map_fact normal) ps }

-- a fact less, by its number
unfoldable pub drop_fact : ℕ → State → State
drop_fact k s = record s { facts = without k s.facts }

-- ---- SEP

-- items more, in normal form
unfoldable pub add_items : List Item → State → State
add_items is s = record s { items = s.items ++ map (map_item normal) is }

-- an item less, by its number
unfoldable pub drop_item : ℕ → State → State
drop_item n s = record s { items = without n s.items }

-- two items less, which are different
unfoldable pub drop_items : ℕ → ℕ → State → State
drop_items n m s = record s { items = without_two n m s.items }

-- another item at a number
unfoldable pub replace_item : ℕ → Item → State → State
replace_item n i s = record s { items = changed n (λ j. i) s.items }

-- the state with these items alone
abbrev pub with_items : List Item → State → State
with_items is s = record s { items = is }

-- ---- LOCAL

-- a parameter or temporary by its number, with a value or without
unfoldable pub set_local : ℕ → Option Term → State → State
set_local x t s = record s { locals = changed x (λ y. (y.0, t)) s.locals }

abbrev pub value_at : Option (Name × Option Term) → Option Term
value_at None = None
value_at (Some x) = x.1

-- its value, where it has one
unfoldable pub local_at : State → ℕ → Option Term
local_at s x = value_at (slice_get s.locals x)

-- the first of a name, by its number, where it has a value
abbrev pub local_named : Name → List (Name × Option Term) → Option (ℕ × Term)
local_named name [] = None
local_named name (x ∷ xs) = elim (bytes_eq x.0 name) [
  | true ↦ option_map (λ t. (0, t)) x.1
  | false ↦ option_map (λ y. (suc y.0, y.1)) (local_named name xs)
]

-- ---- variables

-- condition 6: as many names as variables, no name twice, none that the state has
abbrev pub are_new : List (Name × Sort) → List Name → Bool
are_new vars [] = true
are_new vars (n ∷ ns) = not (list_any (λ v. bytes_eq v.0 n) vars) && (not (list_any (bytes_eq n) ns) && are_new vars ns)

-- condition 6 of names for variables of these sorts
unfoldable pub can_open : State → List Name → List Sort → Bool
can_open s ns sorts = nat_eq (length ns) (length sorts) && are_new s.vars ns

abbrev pub paired : {A B : Type 0} → List A → List B → List (A × B)
paired [] ys = []
paired (x ∷ xs) [] = []
paired (x ∷ xs) (y ∷ ys) = (x, y) ∷ paired xs ys

-- variables of the sorts, numbered from k
abbrev pub variables_from : ℕ → List Sort → List Term
variables_from k [] = []
variables_from k (s ∷ ss) = Var k s ∷ variables_from (suc k) ss

-- the variables that a state opens next
unfoldable pub fresh : State → List Sort → List Term
fresh s sorts = variables_from (count s) sorts

-- variables more, with their names
unfoldable pub add_variables : List Name → List Sort → State → State
add_variables ns sorts s = record s { vars = s.vars ++ paired ns sorts }

-- ---- size

abbrev pub option_terms : Option Term → List Term
option_terms None = []
option_terms (Some t) = t ∷ []

abbrev pub state_terms : State → List Term
state_terms s = joined fact_terms s.facts ++ (joined (λ x. option_terms x.1) s.locals ++ joined item_terms s.items)

-- condition 12 of rule 0: at most 65,536 nodes, and no height above 1,000
unfoldable pub fits : State → Bool
fits s = nat_le (sum_by nodes (state_terms s)) 65536 && list_all (λ t. nat_le (height t) 1000) (state_terms s)
