-- The order of terms, by which normal forms are unique.
use Rattle.std.specs.Cmp.Lexicographic.{slice_cmp}
use Rattle.std.specs.Ordering.{int_cmp, is_eq, nat_cmp, ordering_then}
use Rattle.std.specs.Prelude.{Bool, ℕ}
use Rattle.std.specs.declared.cmp.Ordering.{Ordering}
use Rattle.vd_logic.specs.declared.term.Sort.{Sort}
use Rattle.vd_logic.specs.declared.term.Sort.TheVariants as sort
use Rattle.vd_terms.specs.Terms.{Global, Named, Nil, Number, Of, Of2, Of3, Term, Undef, Var}
use Rattle.vd_terms.specs.declared.operation.Binary.{Binary}
use Rattle.vd_terms.specs.declared.operation.Binary.TheVariants.{Add, App, Band, Bor, Bxor, Cons, Eq, Le, Lt, Mul, Nth, Off, Quot, Rem, Rep, Shl, Shr, Sub}
use Rattle.vd_terms.specs.declared.operation.Ternary.{Ternary}
use Rattle.vd_terms.specs.declared.operation.Ternary.TheVariants.{Slice, Upd}
use Rattle.vd_terms.specs.declared.operation.Unary.{Unary}
use Rattle.vd_terms.specs.declared.operation.Unary.TheVariants.{Len, Num, Rev, Sum, Unum, Vi}

-- the place of an operation among those of as many arguments
abbrev pub unary_number : Unary → ℕ
unary_number Len = 0
unary_number Sum = 1
unary_number Num = 2
unary_number Unum = 3
unary_number Vi = 4
unary_number Rev = 5

abbrev pub binary_number : Binary → ℕ
binary_number Add = 0
binary_number Sub = 1
binary_number Mul = 2
binary_number Quot = 3
binary_number Rem = 4
binary_number Band = 5
binary_number Bor = 6
binary_number Bxor = 7
binary_number Shl = 8
binary_number Shr = 9
binary_number Lt = 10
binary_number Le = 11
binary_number Eq = 12
binary_number Off = 13
binary_number Nth = 14
binary_number Cons = 15
binary_number App = 16
binary_number Rep = 17

abbrev pub ternary_number : Ternary → ℕ
ternary_number Upd = 0
ternary_number Slice = 1

abbrev pub sort_number : Sort → ℕ
sort_number sort.Int = 0
sort_number sort.Val = 1
sort_number sort.List = 2

-- the place of an outermost layer among all
abbrev pub rank : Term → ℕ
rank (Number n) = 0
rank (Var i s) = 1
rank (Named n) = 2
rank (Global g) = 3
rank Undef = 4
rank Nil = 5
rank (Of o a) = 6
rank (Of2 o a b) = 7
rank (Of3 o a b c) = 8

-- a total order in which only equal terms are level: by the outermost layer, then by the arguments from left to right
abbrev pub compare : Term → Term → Ordering
compare (Number m) (Number n) = int_cmp m n
compare (Var x s) (Var y r) = ordering_then (nat_cmp x y) (nat_cmp (sort_number s) (sort_number r))
compare (Named m) (Named n) = slice_cmp nat_cmp m n
compare (Global m) (Global n) = slice_cmp nat_cmp m n
compare (Of o a) (Of p b) = ordering_then (nat_cmp (unary_number o) (unary_number p)) (compare a b)
compare (Of2 o a b) (Of2 p c d) = ordering_then (nat_cmp (binary_number o) (binary_number p)) (ordering_then (compare a c) (compare b d))
compare (Of3 o a b c) (Of3 p d e f) =
    ordering_then (nat_cmp (ternary_number o) (ternary_number p)) (ordering_then (compare a d) (ordering_then (compare b e) (compare c f)))
compare t u = nat_cmp (rank t) (rank u)

-- whether two terms are equal
abbrev pub same : Term → Term → Bool
same t u = is_eq (compare t u)
