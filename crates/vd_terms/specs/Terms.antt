-- Terms. The number of an operation's arguments is in the constructor, so there is no list of terms inside a term: definitions over
-- terms are plain structural clauses, and they compute.
use Rattle.std.specs.Prelude.{ℕ, ℤ, List}
use Rattle.vd_logic.specs.declared.term.Sort.{Sort}
use Rattle.vd_terms.specs.declared.operation.Unary.{Unary}
use Rattle.vd_terms.specs.declared.operation.Binary.{Binary}
use Rattle.vd_terms.specs.declared.operation.Ternary.{Ternary}

-- the bytes of a name
abbrev pub Name : Type 0
Name = List ℕ

-- a number; a variable, by its number and its sort; a name that nothing declares; the address of a global; the undefined value; the
-- empty list; and an operation of one, two or three terms
pub data Term : Type 0 where
  Number : ℤ → Term
  Var : ℕ → Sort → Term
  Named : Name → Term
  Global : Name → Term
  Undef : Term
  Nil : Term
  Of : Unary → Term → Term
  Of2 : Binary → Term → Term → Term
  Of3 : Ternary → Term → Term → Term → Term
