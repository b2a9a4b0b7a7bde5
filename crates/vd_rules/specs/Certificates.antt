-- Rows `0 <= e`, and certificates that a row follows from others.
use Rattle.std.specs.Int.{int_div_euclid}
use Rattle.std.specs.List.{list_all}
use Rattle.std.specs.Option.{option_map}
use Rattle.std.specs.Ordering.{int_eq}
use Rattle.std.specs.Prelude.{Bool, List, None, Option, Some, [], cond, false, int_div, int_lt, int_rem, is_some, map, neg_ℤ, negsuc, option_and_then, pos, slice_get, true, ℕ, ℤ, ◌&&◌, ◌*ℤ◌, ◌++◌, ◌+ℤ◌, ◌∷◌}
use Rattle.vd_logic.specs.declared.step.CertLine.{CertLine}
use Rattle.vd_logic.specs.declared.step.CertLine.TheVariants as line
use Rattle.vd_logic.specs.declared.step.Certificate.{Certificate}
use Rattle.vd_terms.specs.Terms.{Number, Of2, Term}
use Rattle.vd_terms.specs.declared.operation.Binary.TheVariants.{Sub}
use Rattle.vd_rules.specs.Normal.{normal}
use Rattle.vd_rules.specs.Numbers.{small}
use Rattle.vd_rules.specs.Polynomials.{Monomial, polynomial_of, product_term}
use Rattle.vd_rules.specs.TermOrder.{same}
use Rattle.vd_rules.specs.declared.row.RowOf.{RowOf}

-- coefficients of unknowns, and a constant
abbrev pub Row : Type 0
Row = RowOf Term

abbrev pub row : List (Term × ℤ) → ℤ → Row
row ps c = record { parts = ps; constant = c }

-- ---- rows of terms: the unknowns are the products

abbrev pub with_monomial : ℤ → List Term → Row → Row
with_monomial c [] r = row r.parts c
with_monomial c (a ∷ p) r = row ((product_term (a ∷ p), c) ∷ r.parts) r.constant

abbrev pub row_of : List Monomial → Row
row_of [] = row [] (pos 0)
row_of (m ∷ ms) = with_monomial m.coefficient m.product (row_of ms)

-- 0 <= b - a, and 0 <= b - a - 1
abbrev pub gap : Term → Term → Term
gap a b = normal (Of2 Sub b a)

abbrev pub strict_gap : Term → Term → Term
strict_gap a b = normal (Of2 Sub (Of2 Sub b a) (Number (pos 1)))

abbrev pub row_of_term : Term → Row
row_of_term t = row_of (polynomial_of t)

-- ---- sums, of which no number reaches 2 ^ 127

abbrev pub unless_zero : Term → ℤ → List (Term × ℤ) → List (Term × ℤ)
unless_zero u c ps = cond (int_eq c (pos 0)) ps ((u, c) ∷ ps)

abbrev pub added : Bool → Term × ℤ → Term × ℤ → List (Term × ℤ) → Option (List (Term × ℤ)) → Option (List (Term × ℤ))
added true p q ps further = option_map (λ c. unless_zero q.0 c ps) (small (q.1 +ℤ p.1))
added false p q ps further = option_map (λ qs. q ∷ qs) further

-- an unknown more
abbrev pub add_part : Term × ℤ → List (Term × ℤ) → Option (List (Term × ℤ))
add_part p [] = Some (unless_zero p.0 p.1 [])
add_part p (q ∷ ps) = added (same p.0 q.0) p q ps (add_part p ps)

abbrev pub add_sized : Term → List (Term × ℤ) → Option ℤ → Option (List (Term × ℤ))
add_sized u ps None = None
add_sized u ps (Some c) = add_part (u, c) ps

-- a row's unknowns times a multiplier, from left to right
abbrev pub add_parts : ℤ → List (Term × ℤ) → List (Term × ℤ) → Option (List (Term × ℤ))
add_parts m [] sum = Some sum
add_parts m (p ∷ ps) sum = option_and_then (add_parts m ps) (add_sized p.0 sum (small (m *ℤ p.1)))

abbrev pub row_by : Option (List (Term × ℤ)) → Option ℤ → Option Row
row_by (Some ps) (Some c) = Some (row ps c)
row_by ps c = None

-- a row times a multiplier, added to what there is
abbrev pub add_row : ℤ → Row → Row → Option Row
add_row m r sum = row_by (add_parts m r.parts sum.parts) (option_and_then (λ c. small (sum.constant +ℤ c)) (small (m *ℤ r.constant)))

-- a multiplier is not negative
abbrev pub add_multiple : ℤ → Option Row → Row → Option Row
add_multiple m None sum = None
add_multiple m (Some r) sum = cond (int_lt m (pos 0)) None (option_and_then (λ k. add_row k r sum) (small m))

abbrev pub combination : List Row → List (ℤ × ℕ) → Row → Option Row
combination rows [] sum = Some sum
combination rows (m ∷ ms) sum = option_and_then (combination rows ms) (add_multiple m.0 (slice_get rows m.1) sum)

-- each coefficient by a divisor of all
abbrev pub divided_parts : ℤ → List (Term × ℤ) → Option (List (Term × ℤ))
divided_parts d [] = Some []
divided_parts d (p ∷ ps) =
    cond (int_eq (int_rem p.1 d) (pos 0)) (option_map (λ qs. (p.0, int_div p.1 d) ∷ qs) (divided_parts d ps)) None

-- the constant is rounded down
abbrev pub divided : ℤ → Row → Option Row
divided d r = cond (int_lt (pos 0) d) (row_by (divided_parts d r.parts) (Some (int_div_euclid r.constant d))) None

abbrev pub new_row : List Row → CertLine → Option Row
new_row rows (line.Comb ms) = combination rows ms (row [] (pos 0))
new_row rows (line.Cut d k) = option_and_then (λ n. option_and_then (divided n) (slice_get rows k)) (small d)

-- the last row of those that the lines add, each from the rows before it
abbrev pub last_row : List Row → Row → List CertLine → Option Row
last_row rows last [] = Some last
last_row rows last (l ∷ ls) = option_and_then (λ r. last_row (rows ++ r ∷ []) r ls) (new_row rows l)

-- ---- holding

abbrev pub has_no_part : List (Term × ℤ) → Bool
has_no_part [] = true
has_no_part (p ∷ ps) = false

-- 0 <= c with c of -1 or less
abbrev pub is_false : Option Row → Bool
is_false None = false
is_false (Some r) = has_no_part r.parts && int_lt r.constant (pos 0)

abbrev pub has_line : List CertLine → Bool
has_line [] = false
has_line (l ∷ ls) = true

-- the row 0 <= -g - 1 of a goal 0 <= g
abbrev pub negated_goal : Row → Option Row
negated_goal g = row_by (Some (map (λ p. (p.0, neg_ℤ p.1)) g.parts)) (small (neg_ℤ g.constant +ℤ negsuc 0))

-- no number of a row has magnitude 2 ^ 127
abbrev pub is_small : ℤ → Bool
is_small z = is_some (small z)

abbrev pub is_small_row : Row → Bool
is_small_row r = list_all (λ p. is_small p.1) r.parts && is_small r.constant

-- the row that the lines end at, the goal's negation being the last of the given rows
unfoldable pub refuted : List Row → Row → Certificate → Option Row
refuted rows goal c = option_and_then (λ g. last_row (rows ++ g ∷ []) g c.lines) (negated_goal goal)

-- a certificate proves a goal from rows
unfoldable pub proves : List Row → Row → Certificate → Bool
proves rows goal c = has_line c.lines && (list_all is_small_row rows && (is_small_row goal && is_false (refuted rows goal c)))
