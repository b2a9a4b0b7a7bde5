-- The plain term of a term, by its outermost layer.
use Rattle.std.proofs.Common.{◌≡◌, ◌≢◌, ℕ, ℤ, List, [], ◌∷◌, map, length, None, refl, ap, ◌∙◌}
use Rattle.vd_base.specs.declared.name.Name.{Name}
use Rattle.vd_logic.specs.declared.term.Op.{Op}
use Rattle.vd_logic.specs.declared.term.Op.TheVariants as op
use Rattle.vd_logic.specs.declared.term.Sort.{Sort}
use Rattle.vd_logic.specs.declared.term.Term.{Term, Num, Var, Named, Global, App}
use Rattle.vd_logic.specs.Layers.{fold-Num, fold-Var, fold-Named, fold-Global, fold-App}
use Rattle.vd_terms.specs.Terms as p
use Rattle.vd_terms.specs.Sorts.{sort_of}
use Rattle.vd_terms.specs.PlainLogic.{plain, term_layer, operation, of_none, of_one, of_two, of_three}
use Rattle.vd_terms.specs.PlainLaws.{PlainTerms, MisshapenHaveNoSort, arity}

pub plain-Num : (n : ℤ) → plain (Num n) ≡ p.Number n
unfolding plain
plain-Num n = fold-Num term_layer n

pub plain-Var : (x : ℕ) (s : Sort) → plain (Var x s) ≡ p.Var x s
unfolding plain
plain-Var x s = fold-Var term_layer x s

pub plain-Named : (name : Name) → plain (Named name) ≡ p.Named name
unfolding plain
plain-Named name = fold-Named term_layer name

pub plain-Global : (name : Name) → plain (Global name) ≡ p.Global name
unfolding plain
plain-Global name = fold-Global term_layer name

pub plain-App : (o : Op) (args : List Term) → plain (App o args) ≡ operation o (map plain args)
unfolding plain
plain-App o args = fold-App term_layer o args

pub ruleset plain_equations = (plain-App, plain-Num, plain-Global, plain-Named, plain-Var)

pub plain_terms : PlainTerms
plain_terms = record { number = plain-Num; variable = plain-Var; named = plain-Named; global = plain-Global; applied = plain-App }

-- ---- a wrong number of arguments

none : (o : Op) → 0 ≢ arity o → sort_of (of_none o) ≡ None
none op.Undef h = absurd (h refl)
none op.Nil h = absurd (h refl)
none o h = refl

one : (o : Op) (a : p.Term) → 1 ≢ arity o → sort_of (of_one o a) ≡ None
one op.Len a h = absurd (h refl)
one op.Sum a h = absurd (h refl)
one op.Num a h = absurd (h refl)
one op.Unum a h = absurd (h refl)
one op.Vi a h = absurd (h refl)
one op.Rev a h = absurd (h refl)
one o a h = refl

two : (o : Op) (a b : p.Term) → 2 ≢ arity o → sort_of (of_two o a b) ≡ None
two op.Add a b h = absurd (h refl)
two op.Sub a b h = absurd (h refl)
two op.Mul a b h = absurd (h refl)
two op.Quot a b h = absurd (h refl)
two op.Rem a b h = absurd (h refl)
two op.Band a b h = absurd (h refl)
two op.Bor a b h = absurd (h refl)
two op.Bxor a b h = absurd (h refl)
two op.Shl a b h = absurd (h refl)
two op.Shr a b h = absurd (h refl)
two op.Lt a b h = absurd (h refl)
two op.Le a b h = absurd (h refl)
two op.Eq a b h = absurd (h refl)
two op.Off a b h = absurd (h refl)
two op.Nth a b h = absurd (h refl)
two op.Cons a b h = absurd (h refl)
two op.App a b h = absurd (h refl)
two op.Rep a b h = absurd (h refl)
two o a b h = refl

three : (o : Op) (a b c : p.Term) → 3 ≢ arity o → sort_of (of_three o a b c) ≡ None
three op.Upd a b c h = absurd (h refl)
three op.Slice a b c h = absurd (h refl)
three o a b c h = refl

misshapen-sort : (o : Op) (args : List Term) → length args ≢ arity o → sort_of (operation o (map plain args)) ≡ None
misshapen-sort o [] h = none o h
misshapen-sort o (a ∷ []) h = one o (plain a) h
misshapen-sort o (a ∷ b ∷ []) h = two o (plain a) (plain b) h
misshapen-sort o (a ∷ b ∷ c ∷ []) h = three o (plain a) (plain b) (plain c) h
misshapen-sort o (a ∷ b ∷ c ∷ d ∷ ts) h = refl

pub misshapen_have_no_sort : MisshapenHaveNoSort
misshapen_have_no_sort o args h = ap sort_of (plain-App o args) ∙ misshapen-sort o args h
