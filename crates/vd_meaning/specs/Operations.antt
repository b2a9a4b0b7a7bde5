-- What operations mean.
use Rattle.std.specs.Prelude.{List, [], ◌∷◌, ◌++◌, length, reverse, take, drop, replicate, slice_set, slice_index_or, ℤ, pos, negsuc, ◌+ℤ◌, ◌-ℤ◌, ◌*ℤ◌}
use Rattle.vd_mem.specs.Word.{wrapped, signed}
use Rattle.vd_terms.specs.declared.operation.Unary.{Unary}
use Rattle.vd_terms.specs.declared.operation.Unary.TheVariants as unary
use Rattle.vd_terms.specs.declared.operation.Binary.{Binary}
use Rattle.vd_terms.specs.declared.operation.Binary.TheVariants as binary
use Rattle.vd_terms.specs.declared.operation.Ternary.{Ternary}
use Rattle.vd_terms.specs.declared.operation.Ternary.TheVariants as ternary
use Rattle.vd_terms.specs.Integers.{natural, quotient, remainder, shifted_left, shifted_right, bits_and, bits_or, bits_xor, is_less, is_at_most, is_equal}
use Rattle.vd_meaning.specs.Values.{Val, Undef, Int, Ptr, Arg, OfInt, OfVal, OfList, as_int, as_val, as_list}

-- the integer value of an integer modulo 2 ^ 32
abbrev pub vi : ℤ → Val
vi z = Int (wrapped z)

-- the signed number of an integer value, else 0
abbrev pub num : Val → ℤ
num Undef = pos 0
num (Int n) = signed n
num (Ptr b o) = pos 0

-- its unsigned number
abbrev pub unum : Val → ℤ
unum Undef = pos 0
unum (Int n) = pos n
unum (Ptr b o) = pos 0

-- a pointer moved; other values stay
abbrev pub off : Val → ℤ → Val
off Undef z = Undef
off (Int n) z = Int n
off (Ptr b o) z = Ptr b (o +ℤ z)

-- the element at a place; undef outside the list
abbrev pub nth : List Val → ℤ → Val
nth l (pos i) = slice_index_or l i Undef
nth l (negsuc i) = Undef

-- the list with another element at a place; outside the list it is left
abbrev pub upd : List Val → ℤ → Val → List Val
upd l (pos i) v = slice_set l i v
upd l (negsuc i) v = l

-- the part from one place up to another, both brought into 0 to the length: what stands before the second, without what stands before
-- the first
abbrev pub sub : List Val → ℤ → ℤ → List Val
sub l a b = drop (natural a) (take (natural b) l)

-- a value so many times; nil for a count below 0
abbrev pub rep : Val → ℤ → List Val
rep v (pos n) = replicate n v
rep v (negsuc n) = []

-- the sum of the elements' signed numbers
abbrev pub sum : List Val → ℤ
sum [] = pos 0
sum (v ∷ l) = num v +ℤ sum l

-- what each operation gives
abbrev pub one : Unary → Arg → Arg
one unary.Len a = OfInt (pos (length (as_list a)))
one unary.Sum a = OfInt (sum (as_list a))
one unary.Num a = OfInt (num (as_val a))
one unary.Unum a = OfInt (unum (as_val a))
one unary.Vi a = OfVal (vi (as_int a))
one unary.Rev a = OfList (reverse (as_list a))

abbrev pub two : Binary → Arg → Arg → Arg
two binary.Add a b = OfInt (as_int a +ℤ as_int b)
two binary.Sub a b = OfInt (as_int a -ℤ as_int b)
two binary.Mul a b = OfInt (as_int a *ℤ as_int b)
two binary.Quot a b = OfInt (quotient (as_int a) (as_int b))
two binary.Rem a b = OfInt (remainder (as_int a) (as_int b))
two binary.Band a b = OfInt (bits_and (as_int a) (as_int b))
two binary.Bor a b = OfInt (bits_or (as_int a) (as_int b))
two binary.Bxor a b = OfInt (bits_xor (as_int a) (as_int b))
two binary.Shl a b = OfInt (shifted_left (as_int a) (as_int b))
two binary.Shr a b = OfInt (shifted_right (as_int a) (as_int b))
two binary.Lt a b = OfInt (is_less (as_int a) (as_int b))
two binary.Le a b = OfInt (is_at_most (as_int a) (as_int b))
two binary.Eq a b = OfInt (is_equal (as_int a) (as_int b))
two binary.Off a b = OfVal (off (as_val a) (as_int b))
two binary.Nth a b = OfVal (nth (as_list a) (as_int b))
two binary.Cons a b = OfList (as_val a ∷ as_list b)
two binary.App a b = OfList (as_list a ++ as_list b)
two binary.Rep a b = OfList (rep (as_val a) (as_int b))

abbrev pub three : Ternary → Arg → Arg → Arg → Arg
three ternary.Upd a b c = OfList (upd (as_list a) (as_int b) (as_val c))
three ternary.Slice a b c = OfList (sub (as_list a) (as_int b) (as_int c))
