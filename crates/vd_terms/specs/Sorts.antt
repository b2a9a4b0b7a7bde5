-- The sorts of operations and of terms.
use Rattle.std.specs.Prelude.{Bool, true, false, ◌&&◌, Option, Some, None, cond}
use Rattle.vd_logic.specs.declared.term.Sort.{Sort}
use Rattle.vd_logic.specs.declared.term.Sort.TheVariants as sort
use Rattle.vd_terms.specs.declared.operation.Unary.{Unary}
use Rattle.vd_terms.specs.declared.operation.Unary.TheVariants as unary
use Rattle.vd_terms.specs.declared.operation.Binary.{Binary}
use Rattle.vd_terms.specs.declared.operation.Binary.TheVariants as binary
use Rattle.vd_terms.specs.declared.operation.Ternary.{Ternary}
use Rattle.vd_terms.specs.declared.operation.Ternary.TheVariants as ternary
use Rattle.vd_terms.specs.Terms.{Term, Number, Var, Named, Global, Undef, Nil, Of, Of2, Of3}

abbrev pub same_sort : Sort → Sort → Bool
same_sort sort.Int sort.Int = true
same_sort sort.Val sort.Val = true
same_sort sort.List sort.List = true
same_sort s r = false

-- an operation's sorts: those of its arguments, and last its own
abbrev pub unary_sorts : Unary → Sort × Sort
unary_sorts unary.Len = (sort.List, sort.Int)
unary_sorts unary.Sum = (sort.List, sort.Int)
unary_sorts unary.Num = (sort.Val, sort.Int)
unary_sorts unary.Unum = (sort.Val, sort.Int)
unary_sorts unary.Vi = (sort.Int, sort.Val)
unary_sorts unary.Rev = (sort.List, sort.List)

abbrev pub binary_sorts : Binary → Sort × Sort × Sort
binary_sorts binary.Off = (sort.Val, sort.Int, sort.Val)
binary_sorts binary.Nth = (sort.List, sort.Int, sort.Val)
binary_sorts binary.Cons = (sort.Val, sort.List, sort.List)
binary_sorts binary.App = (sort.List, sort.List, sort.List)
binary_sorts binary.Rep = (sort.Val, sort.Int, sort.List)
binary_sorts o = (sort.Int, sort.Int, sort.Int)

abbrev pub ternary_sorts : Ternary → Sort × Sort × Sort × Sort
ternary_sorts ternary.Upd = (sort.List, sort.Int, sort.Val, sort.List)
ternary_sorts ternary.Slice = (sort.List, sort.Int, sort.Int, sort.List)

-- the sort of an argument is the wanted one
abbrev pub is_of : Sort → Option Sort → Bool
is_of s None = false
is_of s (Some r) = same_sort s r

abbrev pub sorted : Bool → Sort → Option Sort
sorted b s = cond b (Some s) None

-- the sort of a term: none where some operation's arguments have not its sorts, or where a name is left that nothing declares
abbrev pub sort_of : Term → Option Sort
sort_of (Number n) = Some sort.Int
sort_of (Var x s) = Some s
sort_of (Named name) = None
sort_of (Global g) = Some sort.Val
sort_of Undef = Some sort.Val
sort_of Nil = Some sort.List
sort_of (Of o a) = sorted (is_of (unary_sorts o).0 (sort_of a)) (unary_sorts o).1
sort_of (Of2 o a b) = sorted (is_of (binary_sorts o).0 (sort_of a) && is_of (binary_sorts o).1 (sort_of b)) (binary_sorts o).2
sort_of (Of3 o a b c) =
    sorted (is_of (ternary_sorts o).0 (sort_of a) && (is_of (ternary_sorts o).1 (sort_of b) && is_of (ternary_sorts o).2 (sort_of c))) (ternary_sorts o).3

abbrev pub has_sort : Sort → Term → Bool
has_sort s t = is_of s (sort_of t)
