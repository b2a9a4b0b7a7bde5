-- Facts, items, assertions, predicates, specifications and scopes over plain terms.
use Rattle.std.specs.Prelude.{map, Option}
use Rattle.std.specs.List.{find}
use Rattle.std.specs.Str.{bytes_eq}
use Rattle.vd_terms.specs.Terms.{Name, Term}
use Rattle.vd_terms.specs.declared.assertion.FactOf.{FactOf}
use Rattle.vd_terms.specs.declared.assertion.FactOf.TheVariants.{Rel, IsInt, IsPtr, Each}
use Rattle.vd_terms.specs.declared.assertion.LabelOf.{LabelOf}
use Rattle.vd_terms.specs.declared.assertion.ItemOf.{ItemOf}
use Rattle.vd_terms.specs.declared.assertion.ItemOf.TheVariants.{Data, Lock, Holds, Token, Pred}
use Rattle.vd_terms.specs.declared.assertion.AssertionOf.{AssertionOf}
use Rattle.vd_terms.specs.declared.assertion.PredicateOf.{PredicateOf}
use Rattle.vd_terms.specs.declared.assertion.SpecOf.{SpecOf}
use Rattle.vd_terms.specs.declared.assertion.ScopeOf.{ScopeOf}

-- a pure fact: a relation of two terms, an integer value, a pointer, a list of which each element is an integer between two bounds
abbrev pub Fact : Type 0
Fact = FactOf Term

-- a predicate with its arguments
abbrev pub Label : Type 0
Label = LabelOf Term

-- a conjunct of the heap's part: data of a share from an address on, a lock of a share at an address with its invariant, the hold of a
-- lock, the token of a block, a predicate
abbrev pub Item : Type 0
Item = ItemOf Term

-- PROP, LOCAL and SEP under variables that are opened
abbrev pub Assertion : Type 0
Assertion = AssertionOf Term

-- a predicate with its cases, which have variables from 0: the arguments, then those that the case opens
abbrev pub Predicate : Type 0
Predicate = PredicateOf Term

-- a function's specification, with variables from 0: those of `with`; in the postcondition then the result, then the opened ones
abbrev pub Spec : Type 0
Spec = SpecOf Term

-- what a section sees
abbrev pub Scope : Type 0
Scope = ScopeOf Term

-- the first predicate of a name
abbrev pub predicate_named : Scope → Name → Option Predicate
predicate_named scope name = find (λ p. bytes_eq p.name name) scope.predicates

-- the first specification of a function's name
abbrev pub spec_named : Scope → Name → Option Spec
spec_named scope name = find (λ s. bytes_eq s.name name) scope.specs

-- ---- a function of terms at each term

abbrev pub map_fact : (Term → Term) → Fact → Fact
map_fact f (Rel r a b) = Rel r (f a) (f b)
map_fact f (IsInt v) = IsInt (f v)
map_fact f (IsPtr v) = IsPtr (f v)
map_fact f (Each l a b) = Each (f l) (f a) (f b)

abbrev pub map_label : (Term → Term) → Label → Label
map_label f l = record { name = l.name; args = map f l.args }

abbrev pub map_item : (Term → Term) → Item → Item
map_item f (Data s p l) = Data (f s) (f p) (f l)
map_item f (Lock s p l) = Lock (f s) (f p) (map_label f l)
map_item f (Holds p l) = Holds (f p) (map_label f l)
map_item f (Token p n) = Token (f p) (f n)
map_item f (Pred l) = Pred (map_label f l)

-- the value of a parameter or temporary
abbrev pub map_local : (Term → Term) → Name × Term → Name × Term
map_local f x = (x.0, f x.1)

abbrev pub map_assertion : (Term → Term) → Assertion → Assertion
map_assertion f a = record {
  opened = a.opened;
  facts = map (map_fact f) a.facts;
  locals = map (map_local f) a.locals;
  items = map (map_item f) a.items;
}
