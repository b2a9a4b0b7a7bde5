-- Values of expressions, with what they owe, and covers taken in order.
use Rattle.std.specs.Option.{option_map}
use Rattle.std.specs.Prelude.{Bool, List, None, Option, Some, [], cond, false, map, nat_lt, negsuc, option_and_then, pos, slice_get, true, ℕ, ℤ, ◌++◌, ◌∷◌}
use Rattle.vd_logic.specs.declared.assertion.Rel.TheVariants as rel
use Rattle.vd_clight.specs.declared.syntax.BinOp.{BinOp}
use Rattle.vd_clight.specs.declared.syntax.BinOp.TheVariants as binop
use Rattle.vd_clight.specs.declared.syntax.UnOp.{UnOp}
use Rattle.vd_clight.specs.declared.syntax.UnOp.TheVariants as unop
use Rattle.vd_clight.specs.declared.typed.Kind.{Kind}
use Rattle.vd_clight.specs.declared.typed.Kind.TheVariants as kind
use Rattle.vd_clight.specs.declared.typed.Root.{Root}
use Rattle.vd_clight.specs.declared.typed.Root.TheVariants as root
use Rattle.vd_terms.specs.Assertions.{Fact, Item}
use Rattle.vd_terms.specs.States.{State}
use Rattle.vd_terms.specs.Terms.{Global, Number, Of, Of2, Term}
use Rattle.vd_terms.specs.declared.assertion.FactOf.TheVariants.{Rel}
use Rattle.vd_terms.specs.declared.assertion.ItemOf.TheVariants.{Data, Lock}
use Rattle.vd_terms.specs.declared.operation.Binary.{Binary}
use Rattle.vd_terms.specs.declared.operation.Binary.TheVariants.{Add, Band, Bor, Bxor, Eq, Le, Lt, Mul, Off, Quot, Rem, Shl, Shr, Sub}
use Rattle.vd_terms.specs.declared.operation.Unary.TheVariants.{Len, Vi}
use Rattle.vd_steps.specs.Code.{Expr, Path}
use Rattle.vd_steps.specs.Code as c
use Rattle.vd_rules.specs.Changes.{local_at}
use Rattle.vd_rules.specs.Normal.{normal}
use Rattle.vd_rules.specs.Proving.{Owed}
use Rattle.vd_rules.specs.TermOrder.{same}
use Rattle.vd_rules.specs.declared.checked.Checked.{Checked}
use Rattle.vd_rules.specs.declared.checked.Checked.TheVariants.{Passed, Refused}
use Rattle.vd_rules.specs.declared.state.OwedOf.TheVariants.{Either, One}
use Rattle.vd_rules.specs.declared.state.ValuedOf.{ValuedOf}

-- what an expression gives, what it owes, and the covers that are left
abbrev pub Valued : Type 0 → Type 0
Valued V = ValuedOf Term V

abbrev pub valued : {V : Type 0} → V → List Owed → List ℕ → Valued V
valued v owed covers = record { value = v; owed = owed; covers = covers }

abbrev pub number : ℤ → Term
number n = Number n

abbrev pub at_most : Term → Term → Owed
at_most a b = One (Rel rel.Le a b)

abbrev pub equal : Term → Term → Owed
equal a b = One (Rel rel.Eq a b)

-- the share is all of it
abbrev pub whole_share : Term → Owed
whole_share s = at_most (Number (pos 64)) s

abbrev pub owing : List Fact → List Owed
owing facts = map One facts

-- S(a), U(a)
unfoldable pub in_range : Kind → Term → List Owed
in_range kind.Signed a = at_most (number (negsuc 2147483647)) a ∷ at_most a (number (pos 2147483647)) ∷ []
in_range kind.Unsigned a = at_most (number (pos 0)) a ∷ at_most a (number (pos 4294967295)) ∷ []

-- ---- operations: of operands vi(a) and vi(b) the a of the result vi(a), and what is owed

abbrev pub if_signed : Kind → List Owed → List Owed
if_signed kind.Signed owed = owed
if_signed kind.Unsigned owed = []

unfoldable pub arithmetic : Kind → Binary → Term → Term → Term × List Owed
arithmetic k o a b =
    let r = normal (Of2 o a b) in
    (r, if_signed k (in_range kind.Signed a ++ (in_range kind.Signed b ++ in_range kind.Signed r)))

-- the quotient fits
unfoldable pub division_owes : Kind → Term → Term → List Owed
division_owes kind.Signed a b =
    in_range kind.Signed a ++ (in_range kind.Signed b ++ (One (Rel rel.Ne b (number (pos 0)))
    ∷ Either (Rel rel.Le (number (negsuc 2147483646)) a) (Rel rel.Le (number (pos 0)) b) ∷ []))
division_owes kind.Unsigned a b = in_range kind.Unsigned a ++ (in_range kind.Unsigned b ++ at_most (number (pos 1)) b ∷ [])

-- both operands are in the range of the kind
unfoldable pub of_range : Kind → Term → Term → Term → Term × List Owed
of_range k r a b = (r, in_range k a ++ in_range k b)

unfoldable pub shift : Binary → Term → Term → Term × List Owed
shift o a b = (Of2 o a b, in_range kind.Unsigned a ++ (at_most (number (pos 0)) b ∷ at_most b (number (pos 31)) ∷ []))

unfoldable pub binary_value : BinOp → Kind → Term → Term → Term × List Owed
binary_value binop.Add k a b = arithmetic k Add a b
binary_value binop.Sub k a b = arithmetic k Sub a b
binary_value binop.Mul k a b = arithmetic k Mul a b
binary_value binop.Div k a b = (Of2 Quot a b, division_owes k a b)
binary_value binop.Rem k a b = (Of2 Rem a b, division_owes k a b)
binary_value binop.And k a b = of_range kind.Unsigned (Of2 Band a b) a b
binary_value binop.Or k a b = of_range kind.Unsigned (Of2 Bor a b) a b
binary_value binop.Xor k a b = of_range kind.Unsigned (Of2 Bxor a b) a b
binary_value binop.Shl k a b = shift Shl a b
binary_value binop.Shr k a b = shift Shr a b
binary_value binop.Lt k a b = of_range k (Of2 Lt a b) a b
binary_value binop.Le k a b = of_range k (Of2 Le a b) a b
binary_value binop.Gt k a b = of_range k (Of2 Lt b a) a b
binary_value binop.Ge k a b = of_range k (Of2 Le b a) a b
binary_value binop.Eq k a b = of_range k (Of2 Eq a b) a b
binary_value binop.Ne k a b = of_range k (Of2 Sub (number (pos 1)) (Of2 Eq a b)) a b

unfoldable pub negated_value : Kind → Term → Term × List Owed
negated_value k a =
    let r = normal (Of2 Sub (number (pos 0)) a) in
    (r, if_signed k (in_range kind.Signed a ++ in_range kind.Signed r))

unfoldable pub unary_value : UnOp → Kind → Term → Term × List Owed
unary_value unop.Minus k a = negated_value k a
unary_value unop.Not k a = (Of2 Eq a (number (pos 0)), in_range k a)
unary_value unop.Invert k a = (Of2 Sub (number (pos 4294967295)) a, in_range kind.Unsigned a)

-- ---- values in order

-- an integer operand has a normal form vi(a): a stands for it
abbrev pub integer_in : Term → Option Term
integer_in (Of Vi a) = Some a
integer_in v = None

unfoldable pub operand : Valued Term → Option (Valued Term)
operand v = option_map (λ a. valued a v.owed v.covers) (integer_in v.value)

-- the value vi(a) of an operation behind its operands
unfoldable pub result : List Owed → Term × List Owed → List ℕ → Valued Term
result before x covers = valued (normal (Of Vi x.0)) (before ++ x.1) covers

-- ---- places and covers

-- where a place begins
unfoldable pub root_term : State → Root → Option Term
root_term s (root.Temp x) = local_at s x
root_term s (root.Global g n) = Some (Global g)

-- a pointer's root and how far it is from it
unfoldable pub root_and_offset : Term → Term × Term
root_and_offset (Of2 Off p a) = (p, a)
root_and_offset p = (p, number (pos 0))

-- i, where the address is off(p, i)
unfoldable pub distance : Term → Term → Option Term
distance p address =
    let q = root_and_offset p in
    let r = root_and_offset address in
    cond (same q.0 r.0) (Some (normal (Of2 Sub r.1 q.1))) None

-- what a cover at i by a list owes
unfoldable pub within : Term → Term → List Owed
within i l = at_most (number (pos 0)) i ∷ at_most (Of2 Add i (number (pos 1))) (Of Len l) ∷ []

-- data with the same root, or a lock at the address
unfoldable pub cover_owes : Term → Option Item → Option (List Owed)
cover_owes address (Some (Data s p l)) = option_map (λ i. within i l) (distance p address)
cover_owes address (Some (Lock s p l)) = cond (same p address) (Some []) None
cover_owes address i = None

-- the next item of `at` covers the address
unfoldable pub covered : State → Term → Valued Term → List ℕ → Option (Valued Term)
covered s address v [] = None
covered s address v (n ∷ ns) = option_map (λ owed. valued v.value (v.owed ++ owed) ns) (cover_owes address (slice_get s.items n))

-- a closed number of 0 or more below the global's cells
unfoldable pub is_inside : Root → Term → Bool
is_inside (root.Global g n) (Number (pos k)) = nat_lt k n
is_inside r k = false

-- the address of a place whose sum is v
unfoldable pub address_by : State → Root → Valued Term → Option (Valued Term)
address_by s r v = option_map (λ base. valued (normal (Of2 Off base v.value)) v.owed v.covers) (root_term s r)

-- a cover is taken unless the place lies inside a global
unfoldable pub covered_unless : Bool → State → Valued Term → Option (Valued Term)
covered_unless true s v = Some v
covered_unless false s v = covered s v.value v v.covers

unfoldable pub taken_address : State → Root → Valued Term → Option (Valued Term)
taken_address s r k = option_and_then (covered_unless (is_inside r (normal k.value)) s) (address_by s r k)

-- a step of a number of cells
unfoldable pub moved_by : ℕ → Valued Term → Valued Term
moved_by n k = valued (Of2 Add k.value (number (pos n))) k.owed k.covers

-- a step by an index, in its range
unfoldable pub indexed : Kind → Valued Term → Valued Term → Valued Term
indexed d k a = valued (Of2 Add k.value a.value) (k.owed ++ (a.owed ++ in_range d a.value)) a.covers

abbrev pub with_unary : UnOp → Kind → Valued Term → Valued Term
with_unary o k a = result a.owed (unary_value o k a.value) a.covers

abbrev pub with_binary : BinOp → Kind → Valued Term → Valued Term → Valued Term
with_binary o k a b = result (a.owed ++ b.owed) (binary_value o k a.value b.value) b.covers

unfoldable mutual
  -- the value of an expression
  pub value : State → Expr → List ℕ → Option (Valued Term)
  value s (c.Const n) covers = Some (valued (normal (Of Vi (number (pos n)))) [] covers)
  value s (c.Temp x) covers = option_map (λ v. valued v [] covers) (local_at s x)
  value s (c.Address r p) covers = option_and_then (taken_address s r) (path_sum s p (valued (number (pos 0)) [] covers))
  value s (c.Unary o k e) covers = option_map (with_unary o k) (option_and_then operand (value s e covers))
  value s (c.Binary o k d e) covers =
      option_and_then (λ a. option_map (with_binary o k a) (option_and_then operand (value s e a.covers))) (option_and_then operand (value s d covers))

  -- the sum of the steps of a path, each index in its range
  pub path_sum : State → Path → Valued Term → Option (Valued Term)
  path_sum s c.Here k = Some k
  path_sum s (c.Offset n p) k = path_sum s p (moved_by n k)
  path_sum s (c.Index d e p) k = option_and_then (λ a. path_sum s p (indexed d k a)) (option_and_then operand (value s e k.covers))

-- the address that a rule accesses, without a cover
unfoldable pub address : State → Root → Path → List ℕ → Option (Valued Term)
address s r p covers = option_and_then (address_by s r) (path_sum s p (valued (number (pos 0)) [] covers))

abbrev pub with_further : Valued Term → Valued (List Term) → Valued (List Term)
with_further v more = valued (v.value ∷ more.value) (v.owed ++ more.owed) more.covers

-- expressions in order
unfoldable pub values : State → List Expr → List ℕ → Option (Valued (List Term))
values s [] covers = Some (valued [] [] covers)
values s (e ∷ es) covers = option_and_then (λ v. option_map (with_further v) (values s es v.covers)) (value s e covers)

-- ---- conditions 1 and 2: no cover is left over where there is a value, and there is one

abbrev pub none_left : {V : Type 0} → Valued V → List ℕ → Checked (Valued V)
none_left v [] = Passed v
none_left v (n ∷ ns) = Refused 1

unfoldable pub finished : {V : Type 0} → Option (Valued V) → Checked (Valued V)
finished None = Refused 2
finished (Some v) = none_left v v.covers

-- ---- null

abbrev pub zero_value : Term
zero_value = Of Vi (Number (pos 0))
