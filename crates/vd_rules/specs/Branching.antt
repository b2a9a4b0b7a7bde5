-- Conditions of `if`: what holds in the true child and in the false one.
use Rattle.std.specs.List.{list_any}
use Rattle.std.specs.Option.{option_map}
use Rattle.std.specs.Prelude.{Bool, List, None, Option, Some, false, option_and_then, pos, true, ℕ, ◌&&◌, ◌++◌, ◌||◌}
use Rattle.vd_logic.specs.declared.assertion.Rel.TheVariants as rel
use Rattle.vd_clight.specs.declared.syntax.BinOp.{BinOp}
use Rattle.vd_clight.specs.declared.syntax.BinOp.TheVariants as binop
use Rattle.vd_clight.specs.declared.syntax.UnOp.TheVariants as unop
use Rattle.vd_clight.specs.declared.typed.Kind.{Kind}
use Rattle.vd_terms.specs.Assertions.{Fact}
use Rattle.vd_terms.specs.States.{State}
use Rattle.vd_terms.specs.Terms.{Term}
use Rattle.vd_terms.specs.declared.assertion.FactOf.TheVariants.{Rel}
use Rattle.vd_steps.specs.Code.{Cond, Expr}
use Rattle.vd_steps.specs.Code as c
use Rattle.vd_rules.specs.TermOrder.{same}
use Rattle.vd_rules.specs.Values.{Valued, covered, in_range, number, operand, value, valued, zero_value}

-- the fact of the true child, and that of the false one
abbrev pub Branches : Type 0
Branches = Fact × Fact

-- the two facts the other way round
unfoldable pub exchanged : Valued Branches → Valued Branches
exchanged b = valued (b.value.1, b.value.0) b.owed b.covers

-- vi(a): a != 0 and a = 0
unfoldable pub against_zero : Kind → Valued Term → Valued Branches
against_zero k a = valued (Rel rel.Ne a.value (number (pos 0)), Rel rel.Eq a.value (number (pos 0))) (a.owed ++ in_range k a.value) a.covers

-- the relation of a comparison, and its negation
unfoldable pub comparison : BinOp → Term → Term → Option Branches
comparison binop.Eq a b = Some (Rel rel.Eq a b, Rel rel.Ne a b)
comparison binop.Ne a b = Some (Rel rel.Ne a b, Rel rel.Eq a b)
comparison binop.Lt a b = Some (Rel rel.Lt a b, Rel rel.Le b a)
comparison binop.Le a b = Some (Rel rel.Le a b, Rel rel.Lt b a)
comparison binop.Gt a b = Some (Rel rel.Lt b a, Rel rel.Le a b)
comparison binop.Ge a b = Some (Rel rel.Le b a, Rel rel.Lt a b)
comparison o a b = None

abbrev pub is_comparison : BinOp → Bool
is_comparison binop.Eq = true
is_comparison binop.Ne = true
is_comparison binop.Lt = true
is_comparison binop.Le = true
is_comparison binop.Gt = true
is_comparison binop.Ge = true
is_comparison o = false

-- both operands of a comparison are in its range
unfoldable pub compared_by : BinOp → Kind → Valued Term → Valued Term → Option (Valued Branches)
compared_by o l a b =
    option_map (λ pq. valued pq (a.owed ++ (b.owed ++ (in_range l a.value ++ in_range l b.value))) b.covers) (comparison o a.value b.value)

-- a comparison of two integers
unfoldable pub compared : State → BinOp → Kind → Expr → Expr → List ℕ → Option (Valued Branches)
compared s o l d e covers =
    option_and_then (λ a. option_and_then (compared_by o l a) (option_and_then operand (value s e a.covers))) (option_and_then operand (value s d covers))

-- any other value is compared with 0
unfoldable pub nonzero : State → Kind → Expr → List ℕ → Option (Valued Branches)
nonzero s k e covers = option_map (against_zero k) (option_and_then operand (value s e covers))

-- an integer condition: `!` exchanges the children
unfoldable pub truth : State → Kind → Expr → List ℕ → Option (Valued Branches)
truth s k (c.Unary unop.Not l e) covers = option_map exchanged (truth s l e covers)
truth s k (c.Binary o l d e) covers = elim (is_comparison o) [ true ↦ compared s o l d e covers | false ↦ nonzero s k (c.Binary o l d e) covers ]
truth s k e covers = nonzero s k e covers

-- ---- pointer tests

abbrev pub equates_with_zero : Term → Fact → Bool
equates_with_zero v (Rel rel.Eq a b) = (same a v && same b zero_value) || (same a zero_value && same b v)
equates_with_zero v p = false

-- equal to vi(0), or PROP equates it with vi(0)
unfoldable pub is_null : State → Term → Bool
is_null s v = same v zero_value || list_any (equates_with_zero v) s.facts

-- an operand that may be a pointer takes a cover
unfoldable pub covered_unless_null : State → Term → Valued Term → Option (Valued Term)
covered_unless_null s p v = elim (is_null s p) [ true ↦ Some v | false ↦ covered s p v v.covers ]

-- equal and not, by the flag of the test
unfoldable pub equality : Bool → Term → Term → Valued Term → Valued Branches
equality true a b v = valued (Rel rel.Eq a b, Rel rel.Ne a b) v.owed v.covers
equality false a b v = valued (Rel rel.Ne a b, Rel rel.Eq a b) v.owed v.covers

-- behind both operands
abbrev pub both_owe : Valued Term → Valued Term → Valued Term
both_owe a b = valued b.value (a.owed ++ b.owed) b.covers

-- a cover for each operand that is not null, left first
unfoldable pub both_covered : State → Valued Term → Valued Term → Option (Valued Term)
both_covered s a b = option_and_then (covered_unless_null s b.value) (covered_unless_null s a.value (both_owe a b))

-- two pointers compared: their values, then their covers
unfoldable pub pointer_test : State → Expr → Expr → Bool → List ℕ → Option (Valued Branches)
pointer_test s d e flag covers =
    option_and_then (λ a. option_and_then (λ b. option_map (equality flag a.value b.value) (both_covered s a b)) (value s e a.covers)) (value s d covers)

-- a condition of `if`
unfoldable pub condition : State → Cond → List ℕ → Option (Valued Branches)
condition s (c.Nonzero k e) covers = truth s k e covers
condition s (c.Pointers d e flag) covers = pointer_test s d e flag covers
