-- When obligations are proved from the facts of a state and the certificates of a step.
use Rattle.std.specs.List.{list_any}
use Rattle.std.specs.Ordering.{int_eq}
use Rattle.std.specs.Prelude.{Bool, List, None, Option, Some, [], cond, false, int_le, int_lt, negsuc, not, option_and_then, true, ℤ, ◌&&◌, ◌||◌, ◌∷◌}
use Rattle.vd_logic.specs.declared.assertion.Rel.{Rel as Relation}
use Rattle.vd_logic.specs.declared.assertion.Rel.TheVariants as rel
use Rattle.vd_logic.specs.declared.step.Certificate.{Certificate}
use Rattle.vd_logic.specs.declared.term.Sort.TheVariants as sort
use Rattle.vd_terms.specs.Assertions.{Fact, map_fact}
use Rattle.vd_terms.specs.Sorts.{has_sort}
use Rattle.vd_terms.specs.Terms.{Global, Nil, Number, Of, Of2, Term, Undef}
use Rattle.vd_terms.specs.declared.assertion.FactOf.TheVariants.{Each, IsInt, IsPtr, Rel}
use Rattle.vd_terms.specs.declared.operation.Binary.TheVariants.{Cons, Off}
use Rattle.vd_terms.specs.declared.operation.Unary.TheVariants.{Vi}
use Rattle.vd_rules.specs.Assertions.{joined}
use Rattle.vd_rules.specs.Certificates.{Row, gap, proves, row, row_of_term, strict_gap}
use Rattle.vd_rules.specs.Normal.{normal}
use Rattle.vd_rules.specs.TermOrder.{same}
use Rattle.vd_rules.specs.declared.state.OwedOf.{OwedOf}
use Rattle.vd_rules.specs.declared.state.OwedOf.TheVariants.{Either, One}

-- what a step owes: a fact, or one of two
abbrev pub Owed : Type 0
Owed = OwedOf Term

-- ---- evident facts

-- nil and a cons, either way round, or closed vi that differ
abbrev pub are_apart : Term → Term → Bool
are_apart Nil (Of2 Cons v l) = true
are_apart (Of2 Cons v l) Nil = true
are_apart (Of Vi (Number m)) (Of Vi (Number n)) = not (int_eq m n)
are_apart a b = false

abbrev pub holds_of : Relation → ℤ → ℤ → Bool
holds_of rel.Eq m n = int_eq m n
holds_of rel.Ne m n = not (int_eq m n)
holds_of rel.Le m n = int_le m n
holds_of rel.Lt m n = int_lt m n

-- a relation of two numbers that holds, or that fails
abbrev pub is_closed : Bool → Relation → Term → Term → Bool
is_closed true r (Number m) (Number n) = holds_of r m n
is_closed false r (Number m) (Number n) = not (holds_of r m n)
is_closed b r t u = false

abbrev pub is_evident_relation : Relation → Term → Term → Bool
is_evident_relation rel.Eq a b = same a b
is_evident_relation rel.Ne a b = is_closed true rel.Ne a b || are_apart a b
is_evident_relation r a b = is_closed true r a b

abbrev pub is_integer_value : Term → Bool
is_integer_value (Of Vi a) = true
is_integer_value v = false

abbrev pub is_global_address : Term → Bool
is_global_address (Global g) = true
is_global_address (Of2 Off (Global g) a) = true
is_global_address v = false

abbrev pub is_evident : Fact → Bool
is_evident (Rel r a b) = is_evident_relation r a b
is_evident (IsInt v) = is_integer_value v
is_evident (IsPtr v) = is_global_address v
is_evident (Each l a b) = false

-- ---- facts that are there

abbrev pub are_integers : Term → Term → Bool
are_integers a b = has_sort sort.Int a && has_sort sort.Int b

-- `=` and `!=` either way round
abbrev pub same_pair : Term → Term → Term → Term → Bool
same_pair a b c d = (same a c && same b d) || (same a d && same b c)

-- the e of the row 0 <= e
abbrev pub gap_of : Relation → Term → Term → Term
gap_of rel.Lt a b = strict_gap a b
gap_of r a b = gap a b

-- `<=` and `<` by rows
abbrev pub matches_relation : Relation → Term → Term → Relation → Term → Term → Bool
matches_relation rel.Eq a b rel.Eq c d = same_pair a b c d
matches_relation rel.Ne a b rel.Ne c d = same_pair a b c d
matches_relation rel.Le a b rel.Le c d = same (gap a b) (gap c d)
matches_relation rel.Le a b rel.Lt c d = same (gap a b) (strict_gap c d)
matches_relation rel.Lt a b rel.Le c d = same (strict_gap a b) (gap c d)
matches_relation rel.Lt a b rel.Lt c d = same (strict_gap a b) (strict_gap c d)
matches_relation r a b s c d = false

abbrev pub matches : Fact → Fact → Bool
matches (Rel r a b) (Rel s c d) = matches_relation r a b s c d
matches (IsInt v) (IsInt w) = same v w
matches (IsPtr v) (IsPtr w) = same v w
matches (Each l a b) (Each m c d) = same l m && (same a c && same b d)
matches p q = false

abbrev pub is_listed : List Fact → Fact → Bool
is_listed facts p = list_any (matches p) facts

-- ---- rows of a state

abbrev pub relation_rows : Relation → Term → Term → List Row
relation_rows rel.Eq a b = cond (are_integers a b) (row_of_term (gap a b) ∷ row_of_term (gap b a) ∷ []) []
relation_rows rel.Ne a b = []
relation_rows r a b = row_of_term (gap_of r a b) ∷ []

abbrev pub fact_rows : Fact → List Row
fact_rows (Rel r a b) = relation_rows r a b
fact_rows p = []

abbrev pub rows_of : List Fact → List Row
rows_of facts = joined fact_rows facts

-- ---- certificates, taken in order

abbrev pub proves_relation : List Fact → Relation → Term → Term → Certificate → Bool
proves_relation facts r a b c = proves (rows_of facts) (row_of_term (gap_of r a b)) c

-- what is left of the certificates behind the first, where it passes
abbrev pub by_next : (Certificate → Bool) → List Certificate → Option (List Certificate)
by_next test [] = None
by_next test (c ∷ cs) = cond (test c) (Some cs) None

-- a certificate for a fact that is `<=` or `<`, or for either side of `!=`
abbrev pub shows : List Fact → Fact → Certificate → Bool
shows facts (Rel rel.Ne a b) c = proves_relation facts rel.Lt a b c || proves_relation facts rel.Lt b a c
shows facts (Rel rel.Eq a b) c = false
shows facts (Rel r a b) c = proves_relation facts r a b c
shows facts p c = false

abbrev pub by_certificates : List Fact → Fact → List Certificate → Option (List Certificate)
by_certificates facts (Rel rel.Eq a b) cs =
    option_and_then (by_next (proves_relation facts rel.Le b a)) (by_next (proves_relation facts rel.Le a b) cs)
by_certificates facts p cs = by_next (shows facts p) cs

abbrev pub is_integer_relation : Fact → Bool
is_integer_relation (Rel r a b) = are_integers a b
is_integer_relation p = false

-- ---- obligations

abbrev pub is_known : List Fact → Fact → Bool
is_known facts p = is_evident p || is_listed facts p

-- what is left of the certificates behind an obligation, where it is proved: it is evident, it is there, or the next certificates show it
abbrev pub proved_fact : List Fact → Fact → List Certificate → Option (List Certificate)
proved_fact facts p cs = elim (is_known facts p) [
  | true ↦ Some cs
  | false ↦ elim (is_integer_relation p) [ true ↦ by_certificates facts p cs | false ↦ None ]
]

abbrev pub proved_owed : List Fact → Owed → List Certificate → Option (List Certificate)
proved_owed facts (One p) cs = proved_fact facts (map_fact normal p) cs
proved_owed facts (Either p q) cs = elim (is_known facts (map_fact normal p) || is_known facts (map_fact normal q)) [
  | true ↦ Some cs
  | false ↦ by_next (λ c. shows facts (map_fact normal p) c || shows facts (map_fact normal q) c) cs
]

-- all in order
abbrev pub proved : List Fact → List Owed → List Certificate → Option (List Certificate)
proved facts [] cs = Some cs
proved facts (o ∷ owed) cs = option_and_then (proved facts owed) (proved_owed facts o cs)

abbrev pub is_spent : Option (List Certificate) → Bool
is_spent (Some []) = true
is_spent cs = false

-- condition 3: all are proved in order, and no certificate is left over
unfoldable pub are_proved : List Fact → List Certificate → List Owed → Bool
are_proved facts cs owed = is_spent (proved facts owed cs)

-- ---- contradictions

abbrev pub is_number_or_undef : Term → Bool
is_number_or_undef (Of Vi a) = true
is_number_or_undef Undef = true
is_number_or_undef v = false

-- a closed false relation, t != t, nil = cons, closed vi that differ equated, isptr of vi or undef
abbrev pub is_contradiction : Fact → Bool
is_contradiction (Rel rel.Eq a b) = is_closed false rel.Eq a b || are_apart a b
is_contradiction (Rel rel.Ne a b) = same a b
is_contradiction (Rel r a b) = is_closed false r a b
is_contradiction (IsPtr v) = is_number_or_undef v
is_contradiction p = false

-- PROP has a contradiction and no certificate is there, or the one certificate shows 0 <= -1
abbrev pub is_absurd : List Fact → List Certificate → Bool
is_absurd facts cs = elim (list_any is_contradiction facts) [
  | true ↦ is_spent (Some cs)
  | false ↦ is_spent (by_next (proves (rows_of facts) (row [] (negsuc 0))) cs)
]
