-- Values as assertions speak of them, and what a term of each sort stands for.
use Rattle.std.specs.Prelude.{ℕ, ◌<◌, ◌^◌, nat_eq, Bool, true, false, ◌&&◌, List, [], ◌∷◌, ℤ, pos}
use Rattle.std.specs.Ordering.{int_eq}
use Rattle.std.specs.Str.{bytes_eq}
use Rattle.vd_mem.specs.declared.value.Value.{Value}
use Rattle.vd_mem.specs.declared.value.Value.TheVariants as machine
use Rattle.vd_logic.specs.declared.term.Sort.{Sort}
use Rattle.vd_logic.specs.declared.term.Sort.TheVariants as sort

-- undefined, an integer, or a pointer: a block's number and an offset in cells. The machine's offsets are natural numbers; here any integer
-- is one, so that moving a pointer by a and then by b is moving it by a + b.
pub data Val : Type 0 where
  Undef : Val
  Int : ℕ → Val
  Ptr : ℕ → ℤ → Val

-- a machine's value
abbrev pub val_of : Value → Val
val_of machine.Undef = Undef
val_of (machine.Int n) = Int n
val_of (machine.Ptr b o) = Ptr b (pos o)

-- an integer has 32 bits
abbrev pub IsWord : Val → Type 0
IsWord Undef = Unit {0}
IsWord (Int n) = n < 2 ^ 32
IsWord (Ptr b o) = Unit {0}

abbrev pub AreWords : List Val → Type 0
AreWords [] = Unit {0}
AreWords (v ∷ l) = IsWord v × AreWords l

-- what a term of each sort stands for, and so what an operation or a predicate takes as an argument
pub data Arg : Type 0 where
  OfInt : ℤ → Arg
  OfVal : Val → Arg
  OfList : List Val → Arg

-- read at a sort. Operations are total: what is of another sort is read as 0, undef or nil, and no well-sorted term has it.
abbrev pub as_int : Arg → ℤ
as_int (OfInt z) = z
as_int (OfVal v) = pos 0
as_int (OfList l) = pos 0

abbrev pub as_val : Arg → Val
as_val (OfInt z) = Undef
as_val (OfVal v) = v
as_val (OfList l) = Undef

abbrev pub as_list : Arg → List Val
as_list (OfInt z) = []
as_list (OfVal v) = []
as_list (OfList l) = l

abbrev pub HasSort : Sort → Arg → Type 0
HasSort sort.Int (OfInt z) = Unit {0}
HasSort sort.Val (OfVal v) = Unit {0}
HasSort sort.List (OfList l) = Unit {0}
HasSort s a = ⊥

-- the integer values in it have 32 bits
abbrev pub HasWords : Arg → Type 0
HasWords (OfInt z) = Unit {0}
HasWords (OfVal v) = IsWord v
HasWords (OfList l) = AreWords l

abbrev pub HaveWords : List Arg → Type 0
HaveWords [] = Unit {0}
HaveWords (a ∷ as_) = HasWords a × HaveWords as_

-- a lock's invariant: a predicate's name, with its arguments
pub data Invariant : Type 0 where
  invariant : List ℕ → List Arg → Invariant

-- ---- tests of equality

abbrev pub same_val : Val → Val → Bool
same_val Undef Undef = true
same_val (Int n) (Int m) = nat_eq n m
same_val (Ptr b o) (Ptr c p) = nat_eq b c && int_eq o p
same_val u v = false

abbrev pub same_vals : List Val → List Val → Bool
same_vals [] [] = true
same_vals (u ∷ l) (v ∷ m) = same_val u v && same_vals l m
same_vals l m = false

abbrev pub same_arg : Arg → Arg → Bool
same_arg (OfInt y) (OfInt z) = int_eq y z
same_arg (OfVal u) (OfVal v) = same_val u v
same_arg (OfList l) (OfList m) = same_vals l m
same_arg a c = false

abbrev pub same_args : List Arg → List Arg → Bool
same_args [] [] = true
same_args (a ∷ xs) (c ∷ ys) = same_arg a c && same_args xs ys
same_args xs ys = false

abbrev pub same_invariant : Invariant → Invariant → Bool
same_invariant (invariant n xs) (invariant m ys) = bytes_eq n m && same_args xs ys
