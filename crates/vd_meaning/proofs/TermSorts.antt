-- A term of a sort means an argument of that sort.
use Rattle.std.proofs.Common.{ℕ, sym, subst}
use Rattle.vd_logic.specs.declared.term.Sort.{Sort}
use Rattle.vd_logic.specs.declared.term.Sort.TheVariants as sort
use Rattle.vd_terms.specs.declared.operation.Unary.{Unary}
use Rattle.vd_terms.specs.declared.operation.Unary.TheVariants as unary
use Rattle.vd_terms.specs.declared.operation.Binary.{Binary}
use Rattle.vd_terms.specs.declared.operation.Binary.TheVariants as binary
use Rattle.vd_terms.specs.declared.operation.Ternary.{Ternary}
use Rattle.vd_terms.specs.declared.operation.Ternary.TheVariants as ternary
use Rattle.vd_terms.specs.Terms as term
use Rattle.vd_terms.specs.Sorts.{unary_sorts, binary_sorts, ternary_sorts}
use Rattle.vd_meaning.specs.Values.{Arg, HasSort}
use Rattle.vd_meaning.specs.Operations.{one, two, three}
use Rattle.vd_meaning.specs.Meaning.{Valuation, variable, meaning}
use Rattle.vd_meaning.specs.MeaningLaws.{SortsAreKept}

one-sort : (o : Unary) (a : Arg) → HasSort (unary_sorts o).1 (one o a)
one-sort unary.Len a = tt
one-sort unary.Sum a = tt
one-sort unary.Num a = tt
one-sort unary.Unum a = tt
one-sort unary.Vi a = tt
one-sort unary.Rev a = tt

two-sort : (o : Binary) (a b : Arg) → HasSort (binary_sorts o).2 (two o a b)
two-sort binary.Add a b = tt
two-sort binary.Sub a b = tt
two-sort binary.Mul a b = tt
two-sort binary.Quot a b = tt
two-sort binary.Rem a b = tt
two-sort binary.Band a b = tt
two-sort binary.Bor a b = tt
two-sort binary.Bxor a b = tt
two-sort binary.Shl a b = tt
two-sort binary.Shr a b = tt
two-sort binary.Lt a b = tt
two-sort binary.Le a b = tt
two-sort binary.Eq a b = tt
two-sort binary.Off a b = tt
two-sort binary.Nth a b = tt
two-sort binary.Cons a b = tt
two-sort binary.App a b = tt
two-sort binary.Rep a b = tt

three-sort : (o : Ternary) (a b c : Arg) → HasSort (ternary_sorts o).3 (three o a b c)
three-sort ternary.Upd a b c = tt
three-sort ternary.Slice a b c = tt

variable-sort : (w : Valuation) (x : ℕ) (s : Sort) → HasSort s (variable w x s)
variable-sort w x sort.Int = tt
variable-sort w x sort.Val = tt
variable-sort w x sort.List = tt

pub sorts_are_kept : SortsAreKept
sorts_are_kept world w vars s (term.Number n) h = subst (λ r. HasSort r (meaning world w (term.Number n))) (sym h) tt
sorts_are_kept world w vars s (term.Var x r) h = subst (λ q. HasSort q (variable w x r)) (sym h.0) (variable-sort w x r)
sorts_are_kept world w vars s (term.Named name) h = absurd h
sorts_are_kept world w vars s (term.Global g) h = subst (λ r. HasSort r (meaning world w (term.Global g))) (sym h) tt
sorts_are_kept world w vars s term.Undef h = subst (λ r. HasSort r (meaning world w term.Undef)) (sym h) tt
sorts_are_kept world w vars s term.Nil h = subst (λ r. HasSort r (meaning world w term.Nil)) (sym h) tt
sorts_are_kept world w vars s (term.Of o a) h = subst (λ r. HasSort r (meaning world w (term.Of o a))) (sym h.0) (one-sort o (meaning world w a))
sorts_are_kept world w vars s (term.Of2 o a b) h =
    subst (λ r. HasSort r (meaning world w (term.Of2 o a b))) (sym h.0) (two-sort o (meaning world w a) (meaning world w b))
sorts_are_kept world w vars s (term.Of3 o a b c) h =
    subst (λ r. HasSort r (meaning world w (term.Of3 o a b c))) (sym h.0) (three-sort o (meaning world w a) (meaning world w b) (meaning world w c))
