-- Tests of equality tell it.
use Rattle.std.proofs.Common.{◌≡◌, true, List, [], ◌∷◌, refl, ap, ap₂}
use Rattle.std.proofs.lemmas.Bool.{and_parts, and_from, eqb-true, eq-eqb}
use Rattle.std.proofs.lemmas.Slice.Eq.{bytes_eq-Decides}
use Rattle.std.specs.Prelude.{nat_eq}
use Rattle.std.specs.Ordering.{int_eq}
use Rattle.std.specs.Str.{bytes_eq}
use Rattle.std.specs.Cmp.{signed_Decides}
use Rattle.vd_meaning.specs.Values.{Val, Undef, Int, Ptr, Arg, OfInt, OfVal, OfList, Invariant, invariant, same_val, same_vals, same_arg, same_args, same_invariant}
use Rattle.vd_meaning.specs.Shares.{Kind, Data, Lock, Hold, Token, same_kind}

same_val-is : (u v : Val) → same_val u v ≡ true → u ≡ v
same_val-is Undef Undef h = refl
same_val-is (Int n) (Int m) h = ap Int (eqb-true n m h)
same_val-is (Ptr b o) (Ptr c p) h =
    let e = and_parts (nat_eq b c) (int_eq o p) h in ap₂ Ptr (eqb-true b c e.0) ((signed_Decides o p).0 e.1)
same_val-is u v h = cc

same_val-itself : (v : Val) → same_val v v ≡ true
same_val-itself Undef = refl
same_val-itself (Int n) = eq-eqb n n refl
same_val-itself (Ptr b o) = and_from (nat_eq b b) (int_eq o o) (eq-eqb b b refl) ((signed_Decides o o).1 refl)

same_vals-is : (l m : List Val) → same_vals l m ≡ true → l ≡ m
same_vals-is [] [] h = refl
same_vals-is (u ∷ l) (v ∷ m) h =
    let e = and_parts (same_val u v) (same_vals l m) h in ap₂ (λ x xs. x ∷ xs) (same_val-is u v e.0) (same_vals-is l m e.1)
same_vals-is l m h = cc

same_vals-itself : (l : List Val) → same_vals l l ≡ true
same_vals-itself [] = refl
same_vals-itself (v ∷ l) = and_from (same_val v v) (same_vals l l) (same_val-itself v) (same_vals-itself l)

same_arg-is : (a c : Arg) → same_arg a c ≡ true → a ≡ c
same_arg-is (OfInt y) (OfInt z) h = ap OfInt ((signed_Decides y z).0 h)
same_arg-is (OfVal u) (OfVal v) h = ap OfVal (same_val-is u v h)
same_arg-is (OfList l) (OfList m) h = ap OfList (same_vals-is l m h)
same_arg-is a c h = cc

same_arg-itself : (a : Arg) → same_arg a a ≡ true
same_arg-itself (OfInt z) = (signed_Decides z z).1 refl
same_arg-itself (OfVal v) = same_val-itself v
same_arg-itself (OfList l) = same_vals-itself l

same_args-is : (xs ys : List Arg) → same_args xs ys ≡ true → xs ≡ ys
same_args-is [] [] h = refl
same_args-is (a ∷ xs) (c ∷ ys) h =
    let e = and_parts (same_arg a c) (same_args xs ys) h in ap₂ (λ z zs. z ∷ zs) (same_arg-is a c e.0) (same_args-is xs ys e.1)
same_args-is xs ys h = cc

same_args-itself : (xs : List Arg) → same_args xs xs ≡ true
same_args-itself [] = refl
same_args-itself (a ∷ xs) = and_from (same_arg a a) (same_args xs xs) (same_arg-itself a) (same_args-itself xs)

same_invariant-is : (i j : Invariant) → same_invariant i j ≡ true → i ≡ j
same_invariant-is (invariant n xs) (invariant m ys) h =
    let e = and_parts (bytes_eq n m) (same_args xs ys) h in ap₂ invariant ((bytes_eq-Decides n m).0 e.0) (same_args-is xs ys e.1)

same_invariant-itself : (i : Invariant) → same_invariant i i ≡ true
same_invariant-itself (invariant n xs) = and_from (bytes_eq n n) (same_args xs xs) ((bytes_eq-Decides n n).1 refl) (same_args-itself xs)

pub same_kind-is : (k j : Kind) → same_kind k j ≡ true → k ≡ j
same_kind-is (Data u) (Data v) h = ap Data (same_val-is u v h)
same_kind-is (Lock i) (Lock j) h = ap Lock (same_invariant-is i j h)
same_kind-is (Hold i) (Hold j) h = ap Hold (same_invariant-is i j h)
same_kind-is (Token n) (Token m) h = ap Token (eqb-true n m h)
same_kind-is k j h = cc

pub same_kind-itself : (k : Kind) → same_kind k k ≡ true
same_kind-itself (Data v) = same_val-itself v
same_kind-itself (Lock i) = same_invariant-itself i
same_kind-itself (Hold i) = same_invariant-itself i
same_kind-itself (Token n) = eq-eqb n n refl
