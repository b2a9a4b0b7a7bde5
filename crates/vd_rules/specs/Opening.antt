-- Assertions under a state's variables, with terms for what they open.
use Rattle.std.specs.List.{list_all, list_any}
use Rattle.std.specs.Prelude.{Bool, List, None, Option, Some, cond, false, map, nat_lt, true, ℕ, ◌&&◌, ◌++◌}
use Rattle.std.specs.Str.{bytes_eq}
use Rattle.vd_terms.specs.Assertions.{Assertion, map_assertion}
use Rattle.vd_terms.specs.Replacing.{opened}
use Rattle.vd_terms.specs.States.{State, named_locals}
use Rattle.vd_terms.specs.Terms.{Name, Term}
use Rattle.vd_rules.specs.Assertions.{fact_terms, item_terms, joined}
use Rattle.vd_rules.specs.Changes.{fresh, paired}
use Rattle.vd_rules.specs.Normal.{normal}
use Rattle.vd_rules.specs.Occurring.{occurs}
use Rattle.vd_rules.specs.TermOrder.{same}
use Rattle.vd_rules.specs.declared.state.OpenOf.{OpenOf}

-- an assertion under the first `bound` variables of a state, with its own behind them
abbrev pub Open : Type 0
Open = OpenOf Term

-- with terms for what it opens, in normal form
abbrev pub opened_by : Open → List Term → Assertion
opened_by o ts = map_assertion (λ t. normal (opened o.bound ts t)) o.inner

-- an assertion of a specification or a predicate with terms for its variables
unfoldable pub with_terms : Assertion → List Term → Assertion
with_terms a ts = opened_by (record { bound = 0; inner = a }) ts

abbrev pub assertion_terms : Assertion → List Term
assertion_terms a = joined fact_terms a.facts ++ (map (λ x. x.1) a.locals ++ joined item_terms a.items)

-- a variable of the state stands in it
abbrev pub mentions : ℕ → Open → Bool
mentions x o = nat_lt x o.bound && list_any (occurs x) (assertion_terms o.inner)

-- the assertion opened: the state's PROP, then its own; its LOCAL and SEP alone
unfoldable pub opens : State → Open → List Name → State
opens s o ns =
    let a = opened_by o (fresh s o.inner.opened) in
    record {
      vars = s.vars ++ paired ns o.inner.opened;
      facts = s.facts ++ a.facts;
      locals = named_locals a.locals (map (λ x. x.0) s.locals);
      items = a.items;
    }

-- ---- LOCAL that is met

abbrev pub is_value : Term → Option Term → Bool
is_value t None = false
is_value t (Some u) = same u t

-- a place of the name has the value
abbrev pub agrees : Name × Term → Name × Option Term → Bool
agrees x y = cond (bytes_eq y.0 x.0) (is_value x.1 y.1) true

-- the name has a place, and each of its places has the value
unfoldable pub has_value : List (Name × Option Term) → Name × Term → Bool
has_value places x = list_any (λ y. bytes_eq y.0 x.0) places && list_all (agrees x) places
