-- The normal form of a term. Equal means equal normal forms.
use Rattle.std.specs.Ordering.{int_eq}
use Rattle.std.specs.Prelude.{None, Option, Some, cond, false, nat_le, negsuc, pos, suc, true, zero, ℕ, ℤ}
use Rattle.vd_mem.specs.Word.{signed, wrapped}
use Rattle.vd_terms.specs.Integers.{bits_and, bits_or, bits_xor, is_at_most, is_equal, is_less, quotient, remainder, shifted_left, shifted_right}
use Rattle.vd_terms.specs.Terms.{Nil, Number, Of, Of2, Of3, Term, Undef}
use Rattle.vd_terms.specs.declared.operation.Binary.{Binary}
use Rattle.vd_terms.specs.declared.operation.Binary.TheVariants.{Add, App, Band, Bor, Bxor, Cons, Eq, Le, Lt, Mul, Nth, Off, Quot, Rem, Rep, Shl, Shr, Sub}
use Rattle.vd_terms.specs.declared.operation.Ternary.{Ternary}
use Rattle.vd_terms.specs.declared.operation.Ternary.TheVariants.{Slice, Upd}
use Rattle.vd_terms.specs.declared.operation.Unary.{Unary}
use Rattle.vd_terms.specs.declared.operation.Unary.TheVariants.{Len, Num, Rev, Sum, Unum, Vi}
use Rattle.vd_rules.specs.Numbers.{small}
use Rattle.vd_rules.specs.Polynomials.{integer, sum}

-- ---- each operation, of arguments in normal form

-- a closed operation is computed, unless its result has magnitude 2 ^ 127
abbrev pub number_or : Term → Option ℤ → Term
number_or t None = t
number_or t (Some n) = Number n

abbrev pub computed : Binary → ℤ → ℤ → ℤ
computed Quot a b = quotient a b
computed Rem a b = remainder a b
computed Band a b = bits_and a b
computed Bor a b = bits_or a b
computed Bxor a b = bits_xor a b
computed Shl a b = shifted_left a b
computed Shr a b = shifted_right a b
computed Lt a b = is_less a b
computed Le a b = is_at_most a b
computed Eq a b = is_equal a b
computed o a b = pos 0

abbrev pub operation : Binary → Term → Term → Term
operation o (Number a) (Number b) = number_or (Of2 o (Number a) (Number b)) (small (computed o a b))
operation o a b = Of2 o a b

-- len(nil) = 0; len(cons(v, l)) = 1 + len(l); len(app(a, b)) = len(a) + len(b)
abbrev pub length_of : Term → Term
length_of Nil = Number (pos 0)
length_of (Of2 Cons v l) = sum (Number (pos 1)) (length_of l)
length_of (Of2 App a b) = sum (length_of a) (length_of b)
length_of l = Of Len l

-- app(nil, l) = l; app(cons(v, l), m) = cons(v, app(l, m))
abbrev pub append : Term → Term → Term
append Nil m = m
append (Of2 Cons v l) m = Of2 Cons v (append l m)
append l m = Of2 App l m

-- rev(nil) = nil
abbrev pub reversed : Term → Term
reversed Nil = Nil
reversed l = Of Rev l

-- sum(nil) = 0
abbrev pub total : Term → Term
total Nil = Number (pos 0)
total l = Of Sum l

-- a closed vi is reduced to 0 up to 4294967295
abbrev pub integer_value : Term → Term
integer_value (Number n) = Of Vi (Number (pos (wrapped n)))
integer_value a = Of Vi a

-- the signed and the unsigned number of a closed value
abbrev pub signed_number : Term → Term
signed_number (Of Vi (Number n)) = Number (signed (wrapped n))
signed_number Undef = Number (pos 0)
signed_number v = Of Num v

abbrev pub unsigned_number : Term → Term
unsigned_number (Of Vi (Number n)) = Number (pos (wrapped n))
unsigned_number Undef = Number (pos 0)
unsigned_number v = Of Unum v

-- off(p, 0) = p
abbrev pub moved : Term → Term → Term
moved p (Number n) = cond (int_eq n (pos 0)) p (Of2 Off p (Number n))
moved p a = Of2 Off p a

-- off(off(p, a), b) = off(p, a + b)
abbrev pub offset : Term → Term → Term
offset (Of2 Off p a) b = moved p (sum a b)
offset p b = moved p b

-- nth and upd on cons at a number of 0 or more
abbrev pub element : Term → ℕ → Term
element (Of2 Cons v l) zero = v
element (Of2 Cons v l) (suc n) = element l n
element l n = Of2 Nth l (Number (pos n))

abbrev pub element_at : Term → Term → Term
element_at l (Number (pos n)) = element l n
element_at l a = Of2 Nth l a

abbrev pub updated : Term → ℕ → Term → Term
updated (Of2 Cons v l) zero u = Of2 Cons u l
updated (Of2 Cons v l) (suc n) u = Of2 Cons v (updated l n u)
updated l n u = Of3 Upd l (Number (pos n)) u

abbrev pub updated_at : Term → Term → Term → Term
updated_at l (Number (pos n)) u = updated l n u
updated_at l a u = Of3 Upd l a u

-- rep(v, k) is listed for a number k up to 16
abbrev pub listed : Term → ℕ → Term
listed v zero = Nil
listed v (suc n) = Of2 Cons v (listed v n)

abbrev pub repeated : Term → Term → Term
repeated v (Number (negsuc n)) = Nil
repeated v (Number (pos n)) = elim (nat_le n 16) [ true ↦ listed v n | false ↦ Of2 Rep v (Number (pos n)) ]
repeated v a = Of2 Rep v a

abbrev pub normal_unary : Unary → Term → Term
normal_unary Len l = length_of l
normal_unary Sum l = total l
normal_unary Num v = signed_number v
normal_unary Unum v = unsigned_number v
normal_unary Vi a = integer_value a
normal_unary Rev l = reversed l

abbrev pub normal_binary : Binary → Term → Term → Term
normal_binary Add a b = integer (Of2 Add a b)
normal_binary Sub a b = integer (Of2 Sub a b)
normal_binary Mul a b = integer (Of2 Mul a b)
normal_binary Off p a = offset p a
normal_binary Nth l a = element_at l a
normal_binary Cons v l = Of2 Cons v l
normal_binary App l m = append l m
normal_binary Rep v a = repeated v a
normal_binary o a b = operation o a b

abbrev pub normal_ternary : Ternary → Term → Term → Term → Term
normal_ternary Upd l a u = updated_at l a u
normal_ternary Slice l a b = Of3 Slice l a b

-- the normal form
abbrev pub normal : Term → Term
normal (Of o a) = normal_unary o (normal a)
normal (Of2 o a b) = normal_binary o (normal a) (normal b)
normal (Of3 o a b c) = normal_ternary o (normal a) (normal b) (normal c)
normal t = t
