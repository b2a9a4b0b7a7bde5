-- Terms, facts and assertions of a step, read over a state: a name is the state's variable of that name, and an assertion's own variables
-- stand behind the state's. Where a script has a variable by its number that is none of these, it has no sort.
use Rattle.std.specs.List.{list_all, list_any}
use Rattle.std.specs.Option.{option_map}
use Rattle.std.specs.Prelude.{Bool, List, None, Option, Some, [], cond, is_some, map, slice_get, suc, true, ℕ, ◌+◌, ◌∷◌}
use Rattle.std.specs.Str.{bytes_eq}
use Rattle.vd_logic.specs.declared.term.Sort.{Sort}
use Rattle.vd_terms.specs.Assertions.{Assertion, Fact, Item, Label, Scope, map_assertion, map_fact, map_label, predicate_named}
use Rattle.vd_terms.specs.Replacing.{replaced}
use Rattle.vd_terms.specs.Sorts.{has_sort, same_sort}
use Rattle.vd_terms.specs.States.{State, count}
use Rattle.vd_terms.specs.Terms.{Name, Named, Term, Var}
use Rattle.vd_terms.specs.declared.assertion.ItemOf.TheVariants.{Data, Holds, Lock, Pred, Token}
use Rattle.vd_rules.specs.Assertions.{have_sorts, is_sorted, is_sorted_assertion, is_sorted_fact, is_sorted_label}
use Rattle.vd_rules.specs.Normal.{normal}
use Rattle.vd_rules.specs.Opening.{Open}

-- what no text has, and what has no sort: where no variable is opened under the name of no bytes, which no text does
abbrev pub unknown : Term
unknown = Named []

abbrev pub variable_named : Name → ℕ → List (Name × Sort) → Option Term
variable_named name k [] = None
variable_named name k (v ∷ vs) = cond (bytes_eq v.0 name) (Some (Var k v.1)) (variable_named name (suc k) vs)

abbrev pub or_named : Name → Option Term → Term
or_named name None = Named name
or_named name (Some t) = t

abbrev pub by_name : State → Name → Term
by_name s name = or_named name (variable_named name 0 s.vars)

-- the term with the state's variables for their names
unfoldable pub resolved : State → Term → Term
resolved s t = replaced (λ x r. unknown) (by_name s) t

-- the normal form of a term of the sort
unfoldable pub term_of : State → Sort → Term → Option Term
term_of s r t = cond (has_sort r (resolved s t)) (Some (normal (resolved s t))) None

-- of any sort
unfoldable pub sorted_term : State → Term → Option Term
sorted_term s t = cond (is_sorted (resolved s t)) (Some (normal (resolved s t))) None

abbrev pub all_some : {A : Type 0} → List (Option A) → Option (List A)
all_some [] = Some []
all_some (None ∷ os) = None
all_some (Some a ∷ os) = option_map (λ more. a ∷ more) (all_some os)

unfoldable pub sorted_terms : State → List Term → Option (List Term)
sorted_terms s ts = all_some (map (sorted_term s) ts)

-- as many, of the sorts
unfoldable pub terms_of : State → List Sort → List Term → Option (List Term)
terms_of s sorts ts = cond (have_sorts sorts (map (resolved s) ts)) (Some (map (λ t. normal (resolved s t)) ts)) None

-- a fact of a step, whose terms have their sorts
unfoldable pub fact_of : State → Fact → Option Fact
fact_of s p = cond (is_sorted_fact (map_fact (resolved s) p)) (Some (map_fact (resolved s) p)) None

-- a label of a step, of which the arguments are sorted
unfoldable pub label_of : Scope → State → Label → Option Label
label_of scope s l = cond (is_sorted_label scope (map_label (resolved s) l)) (Some (map_label (resolved s) l)) None

-- ---- assertions of a script

abbrev pub opened_variable : ℕ → Option Sort → ℕ → Sort → Term
opened_variable bound None x r = unknown
opened_variable bound (Some q) x r = cond (same_sort q r) (Var (bound + x) r) unknown

-- an opened variable stands behind the state's
abbrev pub assertion_term : State → List Sort → Term → Term
assertion_term s sorts t = replaced (λ x r. opened_variable (count s) (slice_get sorts x) x r) (by_name s) t

unfoldable pub shown : State → Assertion → Assertion
shown s a = map_assertion (assertion_term s a.opened) a

-- condition 1: names and sorts
unfoldable pub read_assertion : Scope → State → Assertion → Option Open
read_assertion scope s a =
    cond (is_sorted_assertion scope (shown s a)) (Some (record { bound = count s; inner = map_assertion normal (shown s a) })) None

-- condition 4: LOCAL names are the function's
unfoldable pub locals_known : State → Assertion → Bool
locals_known s a = list_all (λ x. list_any (λ y. bytes_eq y.0 x.0) s.locals) a.locals

-- condition 7: predicates are declared
unfoldable pub is_declared : Scope → Label → Bool
is_declared scope l = is_some (predicate_named scope l.name)

abbrev pub declared_item : Scope → Item → Bool
declared_item scope (Data s p l) = true
declared_item scope (Lock s p l) = is_declared scope l
declared_item scope (Holds p l) = is_declared scope l
declared_item scope (Token p n) = true
declared_item scope (Pred l) = is_declared scope l

unfoldable pub predicates_declared : Scope → Assertion → Bool
predicates_declared scope a = list_all (declared_item scope) a.items
