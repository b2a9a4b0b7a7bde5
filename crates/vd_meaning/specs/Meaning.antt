-- What terms mean under a valuation of their variables.
use Rattle.std.specs.Prelude.{◌≡◌, ℕ, suc, ◌<◌, List, [], ◌∷◌, length, ℤ, pos}
use Rattle.std.specs.List.{position}
use Rattle.std.specs.Option.{unwrap_or}
use Rattle.std.specs.Str.{bytes_eq}
use Rattle.vd_clight.specs.declared.program.GlobalDef.{GlobalDef}
use Rattle.vd_logic.specs.declared.term.Sort.{Sort}
use Rattle.vd_logic.specs.declared.term.Sort.TheVariants as sort
use Rattle.vd_terms.specs.Terms.{Name, Term}
use Rattle.vd_terms.specs.Terms as term
use Rattle.vd_terms.specs.Assertions.{Assertion}
use Rattle.vd_meaning.specs.Values.{Val, Undef, Ptr, IsWord, AreWords, Arg, OfInt, OfVal, OfList, as_int, as_val, as_list}
use Rattle.vd_meaning.specs.Operations.{one, two, three}

-- what names stand for: the globals of a program, in the order of their blocks, and the table of predicates, which has the cases of
-- each name. Cases may speak of predicates again, so a table is meaning for recursive predicates too.
pub record World : Type 0 where
  pub globals : List GlobalDef
  pub cases : Name → List Assertion

-- the block of a global is its number in their order, as the machine lays them out; a name that is none of them stands for some block
-- too, so that the meaning of a term is total
abbrev pub block_named : World → Name → ℕ
block_named world name = unwrap_or (position (λ g. bytes_eq g.name name) world.globals) (length world.globals)

-- what the variables stand for, by number and sort. Integer values have 32 bits, so a valuation gives no value that the machine has not.
pub record Valuation : Type 0 where
  pub ints : ℕ → ℤ
  pub vals : ℕ → Val
  pub lists : ℕ → List Val
  pub vals_ok : (x : ℕ) → IsWord (vals x)
  pub lists_ok : (x : ℕ) → AreWords (lists x)

abbrev pub variable : Valuation → ℕ → Sort → Arg
variable w x sort.Int = OfInt (w.ints x)
variable w x sort.Val = OfVal (w.vals x)
variable w x sort.List = OfList (w.lists x)

-- two valuations agree on the first n variables, whatever their sorts
pub record Agree (n : ℕ) (w z : Valuation) : Type 0 where
  pub ints : (x : ℕ) → x < n → w.ints x ≡ z.ints x
  pub vals : (x : ℕ) → x < n → w.vals x ≡ z.vals x
  pub lists : (x : ℕ) → x < n → w.lists x ≡ z.lists x

-- a variable stands for an argument
abbrev pub StandsFor : Valuation → ℕ → Arg → Type 0
StandsFor w x (OfInt z) = w.ints x ≡ z
StandsFor w x (OfVal v) = w.vals x ≡ v
StandsFor w x (OfList l) = w.lists x ≡ l

-- the variables from n on stand for the arguments
abbrev pub StandFor : Valuation → ℕ → List Arg → Type 0
StandFor w n [] = Unit {0}
StandFor w n (a ∷ xs) = StandsFor w n a × StandFor w (suc n) xs

-- what a term means; a name that nothing declares is undef, and no well-sorted term has one
abbrev pub meaning : World → Valuation → Term → Arg
meaning world w (term.Number n) = OfInt n
meaning world w (term.Var x s) = variable w x s
meaning world w (term.Named name) = OfVal Undef
meaning world w (term.Global name) = OfVal (Ptr (block_named world name) (pos 0))
meaning world w term.Undef = OfVal Undef
meaning world w term.Nil = OfList []
meaning world w (term.Of o a) = one o (meaning world w a)
meaning world w (term.Of2 o a b) = two o (meaning world w a) (meaning world w b)
meaning world w (term.Of3 o a b c) = three o (meaning world w a) (meaning world w b) (meaning world w c)

abbrev pub int_of : World → Valuation → Term → ℤ
int_of world w t = as_int (meaning world w t)

abbrev pub val_of_term : World → Valuation → Term → Val
val_of_term world w t = as_val (meaning world w t)

abbrev pub list_of : World → Valuation → Term → List Val
list_of world w t = as_list (meaning world w t)
