-- What is true of plain terms.
use Rattle.std.specs.Prelude.{◌≡◌, ◌≢◌, ℕ, ℤ, List, map, length, None}
use Rattle.vd_base.specs.declared.name.Name.{Name}
use Rattle.vd_logic.specs.declared.term.Op.{Op}
use Rattle.vd_logic.specs.declared.term.Op.TheVariants as op
use Rattle.vd_logic.specs.declared.term.Sort.{Sort}
use Rattle.vd_logic.specs.declared.term.Term as written
use Rattle.vd_terms.specs.Terms as plain_term
use Rattle.vd_terms.specs.Sorts.{sort_of}
use Rattle.vd_terms.specs.PlainLogic.{plain, operation}

-- the plain term of each kind of term
pub record PlainTerms : Type 0 where
  pub number : (n : ℤ) → plain (written.Num n) ≡ plain_term.Number n
  pub variable : (x : ℕ) (s : Sort) → plain (written.Var x s) ≡ plain_term.Var x s
  pub named : (name : Name) → plain (written.Named name) ≡ plain_term.Named name
  pub global : (name : Name) → plain (written.Global name) ≡ plain_term.Global name
  pub applied : (o : Op) (args : List written.Term) → plain (written.App o args) ≡ operation o (map plain args)

-- how many arguments an operation takes
abbrev pub arity : Op → ℕ
arity op.Undef = 0
arity op.Nil = 0
arity op.Len = 1
arity op.Sum = 1
arity op.Num = 1
arity op.Unum = 1
arity op.Vi = 1
arity op.Rev = 1
arity op.Upd = 3
arity op.Slice = 3
arity o = 2

-- a term with a wrong number of arguments stands for one that has no sort
abbrev pub MisshapenHaveNoSort : Type 0
MisshapenHaveNoSort = (o : Op) (args : List written.Term) → length args ≢ arity o → sort_of (plain (written.App o args)) ≡ None
