-- Polynomials: sums of coefficients times products of terms that are no sums, differences or products
use Rattle.std.specs.Cmp.Lexicographic.{slice_cmp}
use Rattle.std.specs.Ordering.{int_eq}
use Rattle.std.specs.Prelude.{List, None, Option, Some, [], cond, map, neg_ℤ, option_and_then, pos, unwrap_or, ℤ, ◌*ℤ◌, ◌+ℤ◌, ◌∷◌}
use Rattle.std.specs.declared.cmp.Ordering.{Ordering}
use Rattle.std.specs.declared.cmp.Ordering.TheVariants.{Equal, Greater, Less}
use Rattle.vd_terms.specs.Terms.{Number, Of2, Term}
use Rattle.vd_terms.specs.declared.operation.Binary.TheVariants.{Add, Mul, Sub}
use Rattle.vd_rules.specs.Numbers.{small}
use Rattle.vd_rules.specs.TermOrder.{compare}
use Rattle.vd_rules.specs.declared.row.MonomialOf.{MonomialOf}

abbrev pub Monomial : Type 0
Monomial = MonomialOf Term

abbrev pub monomial : ℤ → List Term → Monomial
monomial c p = record { coefficient = c; product = p }

-- the constant, with the product of nothing, is first
abbrev pub compare_products : List Term → List Term → Ordering
compare_products = slice_cmp compare

abbrev pub unless_zero : ℤ → List Term → List Monomial → List Monomial
unless_zero c p ms = cond (int_eq c (pos 0)) ms (monomial c p ∷ ms)

abbrev pub merged : Option ℤ → List Term → List Monomial → Option (List Monomial)
merged None p ms = None
merged (Some c) p ms = Some (unless_zero c p ms)

abbrev pub behind : Monomial → Option (List Monomial) → Option (List Monomial)
behind m None = None
behind m (Some ms) = Some (m ∷ ms)

abbrev pub placed : Ordering → Monomial → Monomial → List Monomial → Option (List Monomial) → Option (List Monomial)
placed Less m n ms further = Some (m ∷ n ∷ ms)
placed Equal m n ms further = merged (small (m.coefficient +ℤ n.coefficient)) m.product ms
placed Greater m n ms further = behind n further

-- a monomial more, where the coefficients stay small
abbrev pub add_monomial : Monomial → List Monomial → Option (List Monomial)
add_monomial m [] = Some (m ∷ [])
add_monomial m (n ∷ ms) = placed (compare_products m.product n.product) m n ms (add_monomial m ms)

abbrev pub plus : List Monomial → List Monomial → Option (List Monomial)
plus [] q = Some q
plus (m ∷ p) q = option_and_then (plus p) (add_monomial m q)

abbrev pub negated : Monomial → Monomial
negated m = monomial (neg_ℤ m.coefficient) m.product

abbrev pub insert_atom : Term → List Term → List Term
insert_atom a [] = a ∷ []
insert_atom a (b ∷ p) = elim (compare a b) [ Less ↦ a ∷ b ∷ p | Equal ↦ a ∷ b ∷ p | Greater ↦ b ∷ insert_atom a p ]

abbrev pub join_products : List Term → List Term → List Term
join_products [] q = q
join_products (a ∷ p) q = join_products p (insert_atom a q)

abbrev pub add_scaled : List Term → Option ℤ → List Monomial → Option (List Monomial)
add_scaled p None sum = None
add_scaled p (Some c) sum = add_monomial (monomial c p) sum

-- a monomial times a polynomial, added to what there is
abbrev pub add_row : Monomial → List Monomial → List Monomial → Option (List Monomial)
add_row m [] sum = Some sum
add_row m (n ∷ q) sum =
    option_and_then (add_row m q) (add_scaled (join_products m.product n.product) (small (m.coefficient *ℤ n.coefficient)) sum)

abbrev pub add_product : List Monomial → List Monomial → List Monomial → Option (List Monomial)
add_product [] q sum = Some sum
add_product (m ∷ p) q sum = option_and_then (add_product p q) (add_row m q sum)

abbrev pub times : List Monomial → List Monomial → Option (List Monomial)
times p q = add_product p q []

abbrev pub atom : Term → List Monomial
atom t = monomial (pos 1) (t ∷ []) ∷ []

-- a sum, a difference or a product with a number of magnitude 2 ^ 127 in it stays as it is: it is one unknown
abbrev pub polynomial_of : Term → List Monomial
polynomial_of (Number n) = unless_zero n [] []
polynomial_of (Of2 Add a b) = unwrap_or (plus (polynomial_of b) (polynomial_of a)) (atom (Of2 Add a b))
polynomial_of (Of2 Sub a b) = unwrap_or (plus (map negated (polynomial_of b)) (polynomial_of a)) (atom (Of2 Sub a b))
polynomial_of (Of2 Mul a b) = unwrap_or (times (polynomial_of a) (polynomial_of b)) (atom (Of2 Mul a b))
polynomial_of t = atom t

-- ---- the tree of a polynomial: nested to the right, a coefficient of 1 left out

abbrev pub product_term : List Term → Term
product_term [] = Number (pos 1)
product_term (a ∷ []) = a
product_term (a ∷ b ∷ p) = Of2 Mul a (product_term (b ∷ p))

abbrev pub scaled_term : ℤ → List Term → Term
scaled_term c [] = Number c
scaled_term c (a ∷ p) = cond (int_eq c (pos 1)) (product_term (a ∷ p)) (Of2 Mul (Number c) (product_term (a ∷ p)))

abbrev pub polynomial_term : List Monomial → Term
polynomial_term [] = Number (pos 0)
polynomial_term (m ∷ []) = scaled_term m.coefficient m.product
polynomial_term (m ∷ n ∷ ms) = Of2 Add (scaled_term m.coefficient m.product) (polynomial_term (n ∷ ms))

abbrev pub integer : Term → Term
integer t = polynomial_term (polynomial_of t)

abbrev pub sum : Term → Term → Term
sum a b = integer (Of2 Add a b)
