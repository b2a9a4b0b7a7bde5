-- Terms and their normal forms.
use Rattle.std.specs.Prelude.{◌≡◌, refl, pos, negsuc, true, false}
use Rattle.vd_terms.specs.Terms.{Number, Var, Global, Undef, Nil, Of, Of2, Of3}
use Rattle.vd_rules.specs.Computing.{computing}
use Rattle.vd_rules.specs.Normal.{normal}
use Rattle.vd_rules.specs.TermOrder.{same}
use Rattle.vd_terms.specs.declared.operation.Unary.TheVariants as unary
use Rattle.vd_terms.specs.declared.operation.Binary.TheVariants as binary
use Rattle.vd_terms.specs.declared.operation.Ternary.TheVariants as ternary
use Rattle.vd_logic.specs.declared.term.Sort.TheVariants as sort
use Rattle.vd_examples.specs.Names.{name_g}

pairs_1 : normal (Of2 binary.App (Of2 binary.App (Of2 binary.App (Of2 binary.App (Of2 binary.Cons (Of unary.Vi (Number (pos 27))) Nil) (Of2 binary.Cons Undef (Var 6 sort.List))) (Var 6 sort.List)) Nil) (Var 5 sort.List)) ≡ (Of2 binary.Cons (Of unary.Vi (Number (pos 27))) (Of2 binary.Cons Undef (Of2 binary.App (Of2 binary.App (Of2 binary.App (Var 6 sort.List) (Var 6 sort.List)) Nil) (Var 5 sort.List))))
unfolding computing
pairs_1 = refl

pairs_2 : normal (Of2 binary.Shr (Of2 binary.Quot (Of2 binary.Add (Number (pos 0)) (Number (pos 7))) (Of unary.Num (Global name_g))) (Of unary.Unum (Of unary.Vi (Var 0 sort.Int)))) ≡ (Of2 binary.Shr (Of2 binary.Quot (Number (pos 7)) (Of unary.Num (Global name_g))) (Of unary.Unum (Of unary.Vi (Var 0 sort.Int))))
unfolding computing
pairs_2 = refl

pairs_3 : normal (Of unary.Vi (Of2 binary.Le (Of2 binary.Bxor (Number (pos 5)) (Var 0 sort.Int)) (Of unary.Unum (Of unary.Vi (Number (pos 2)))))) ≡ (Of unary.Vi (Of2 binary.Le (Of2 binary.Bxor (Number (pos 5)) (Var 0 sort.Int)) (Number (pos 2))))
unfolding computing
pairs_3 = refl

pairs_4 : normal (Of2 binary.Off (Of unary.Vi (Of unary.Unum (Of2 binary.Nth Nil (Of unary.Num (Global name_g))))) (Of2 binary.Bor (Of unary.Unum (Of unary.Vi (Of unary.Num Undef))) (Number (pos 67)))) ≡ (Of2 binary.Off (Of unary.Vi (Of unary.Unum (Of2 binary.Nth Nil (Of unary.Num (Global name_g))))) (Number (pos 67)))
unfolding computing
pairs_4 = refl

pairs_5 : normal (Of unary.Vi (Of unary.Len (Of2 binary.Cons (Var 3 sort.Val) (Var 5 sort.List)))) ≡ (Of unary.Vi (Of2 binary.Add (Number (pos 1)) (Of unary.Len (Var 5 sort.List))))
unfolding computing
pairs_5 = refl

pairs_6 : same (normal (Of2 binary.Shl (Of2 binary.Lt (Of2 binary.Add (Of2 binary.Sub (Of unary.Sum (Var 5 sort.List)) (Of unary.Unum Undef)) (Of2 binary.Mul (Of unary.Len Nil) (Of unary.Num Undef))) (Of2 binary.Mul (Of unary.Len (Of2 binary.Cons (Of unary.Vi (Number (pos 0))) (Var 5 sort.List))) (Of2 binary.Rem (Of unary.Unum Undef) (Of unary.Num (Global name_g))))) (Of2 binary.Lt (Of2 binary.Mul (Of2 binary.Bor (Of unary.Num (Of unary.Vi (Number (pos 1)))) (Of2 binary.Bxor (Number (pos 2)) (Number (pos 2)))) (Number (pos 2))) (Of2 binary.Sub (Of unary.Len (Of2 binary.Cons (Global name_g) (Var 6 sort.List))) (Of unary.Num (Of2 binary.Off Undef (Var 1 sort.Int))))))) (normal (Of2 binary.Shl (Of2 binary.Lt (Of2 binary.Sub (Of2 binary.Sub (Of unary.Sum (Var 5 sort.List)) (Of unary.Unum Undef)) (Of2 binary.Sub (Number (pos 0)) (Of2 binary.Mul (Of unary.Len Nil) (Of unary.Num Undef)))) (Of2 binary.Mul (Of unary.Len (Of2 binary.Cons (Of unary.Vi (Of2 binary.Add (Number (pos 0)) (Number (pos 0)))) (Var 5 sort.List))) (Of2 binary.Rem (Of unary.Unum Undef) (Of unary.Num (Global name_g))))) (Of2 binary.Lt (Of2 binary.Mul (Of2 binary.Bor (Of unary.Num (Of unary.Vi (Number (pos 1)))) (Of2 binary.Bxor (Number (pos 2)) (Number (pos 2)))) (Number (pos 2))) (Of2 binary.Sub (Of unary.Len (Of2 binary.Cons (Global name_g) (Var 6 sort.List))) (Of unary.Num (Of2 binary.Off Undef (Var 1 sort.Int))))))) ≡ true
unfolding computing
pairs_6 = refl

pairs_7 : normal (Of2 binary.Cons (Of unary.Vi (Number (pos 170141183460469231731687303715884105727))) (Of unary.Rev (Of2 binary.Cons Undef Nil))) ≡ (Of2 binary.Cons (Of unary.Vi (Number (pos 4294967295))) (Of unary.Rev (Of2 binary.Cons Undef Nil)))
unfolding computing
pairs_7 = refl

pairs_8 : normal (Of2 binary.Bxor (Of2 binary.Add (Of2 binary.Quot (Of2 binary.Shr (Of unary.Sum (Var 6 sort.List)) (Var 1 sort.Int)) (Of2 binary.Bxor (Of2 binary.Bor (Var 0 sort.Int) (Number (pos 5))) (Var 0 sort.Int))) (Number (pos 0))) (Of unary.Len (Of2 binary.Cons (Of unary.Vi (Number (pos 2))) (Of3 ternary.Upd (Of2 binary.Rep (Of unary.Vi (Number (pos 2))) (Var 2 sort.Int)) (Var 2 sort.Int) (Of unary.Vi (Number (pos 0))))))) ≡ (Of2 binary.Bxor (Of2 binary.Quot (Of2 binary.Shr (Of unary.Sum (Var 6 sort.List)) (Var 1 sort.Int)) (Of2 binary.Bxor (Of2 binary.Bor (Var 0 sort.Int) (Number (pos 5))) (Var 0 sort.Int))) (Of2 binary.Add (Number (pos 1)) (Of unary.Len (Of3 ternary.Upd (Of2 binary.Rep (Of unary.Vi (Number (pos 2))) (Var 2 sort.Int)) (Var 2 sort.Int) (Of unary.Vi (Number (pos 0)))))))
unfolding computing
pairs_8 = refl

pairs_9 : normal (Of unary.Vi (Of2 binary.Shl (Of2 binary.Shl (Number (pos 5)) (Number (pos 1))) (Number (pos 5)))) ≡ (Of unary.Vi (Number (pos 320)))
unfolding computing
pairs_9 = refl

pairs_10 : normal (Of unary.Num (Of2 binary.Off (Of2 binary.Off (Var 3 sort.Val) (Number (pos 5))) (Of unary.Sum (Var 5 sort.List)))) ≡ (Of unary.Num (Of2 binary.Off (Var 3 sort.Val) (Of2 binary.Add (Number (pos 5)) (Of unary.Sum (Var 5 sort.List)))))
unfolding computing
pairs_10 = refl

pairs_11 : normal (Of2 binary.Rep (Of unary.Vi (Of2 binary.Le (Of2 binary.Quot (Var 1 sort.Int) (Var 1 sort.Int)) (Var 0 sort.Int))) (Of2 binary.Quot (Of2 binary.Quot (Of unary.Len (Var 5 sort.List)) (Of2 binary.Bxor (Number (pos 0)) (Number (pos 71)))) (Of unary.Sum (Of2 binary.Cons (Global name_g) Nil)))) ≡ (Of2 binary.Rep (Of unary.Vi (Of2 binary.Le (Of2 binary.Quot (Var 1 sort.Int) (Var 1 sort.Int)) (Var 0 sort.Int))) (Of2 binary.Quot (Of2 binary.Quot (Of unary.Len (Var 5 sort.List)) (Number (pos 71))) (Of unary.Sum (Of2 binary.Cons (Global name_g) Nil))))
unfolding computing
pairs_11 = refl

pairs_12 : normal (Of unary.Sum (Of2 binary.Cons (Of2 binary.Off (Of2 binary.Nth (Var 5 sort.List) (Number (pos 1))) (Of2 binary.Shl (Number (pos 7)) (Number (pos 3)))) (Of2 binary.App (Of2 binary.App (Of unary.Rev (Var 5 sort.List)) (Of2 binary.Cons (Global name_g) (Var 5 sort.List))) (Of2 binary.App (Of3 ternary.Slice (Var 6 sort.List) (Var 0 sort.Int) (Number (pos 47))) (Of2 binary.Cons (Of unary.Vi (Number (pos 17))) Nil))))) ≡ (Of unary.Sum (Of2 binary.Cons (Of2 binary.Off (Of2 binary.Nth (Var 5 sort.List) (Number (pos 1))) (Number (pos 56))) (Of2 binary.App (Of2 binary.App (Of unary.Rev (Var 5 sort.List)) (Of2 binary.Cons (Global name_g) (Var 5 sort.List))) (Of2 binary.App (Of3 ternary.Slice (Var 6 sort.List) (Var 0 sort.Int) (Number (pos 47))) (Of2 binary.Cons (Of unary.Vi (Number (pos 17))) Nil)))))
unfolding computing
pairs_12 = refl

pairs_13 : same (normal (Of2 binary.Rep (Of unary.Vi (Number (pos 0))) (Of unary.Unum (Global name_g)))) (normal (Of2 binary.Rep (Of unary.Vi (Of2 binary.Add (Number (pos 0)) (Number (pos 0)))) (Of unary.Unum (Global name_g)))) ≡ true
unfolding computing
pairs_13 = refl

pairs_14 : normal (Of unary.Vi (Of2 binary.Add (Number (pos 2)) (Number (pos 18446744073709551616)))) ≡ (Of unary.Vi (Number (pos 2)))
unfolding computing
pairs_14 = refl

pairs_15 : normal (Of2 binary.Cons (Var 3 sort.Val) (Of2 binary.App Nil (Var 5 sort.List))) ≡ (Of2 binary.Cons (Var 3 sort.Val) (Var 5 sort.List))
unfolding computing
pairs_15 = refl

pairs_16 : normal (Of unary.Num (Of2 binary.Off (Of2 binary.Nth (Var 5 sort.List) (Number (pos 7))) (Of2 binary.Lt (Number (pos 7)) (Number (pos 1))))) ≡ (Of unary.Num (Of2 binary.Nth (Var 5 sort.List) (Number (pos 7))))
unfolding computing
pairs_16 = refl

pairs_17 : normal (Of2 binary.Rem (Of2 binary.Sub (Number (pos 85)) (Number (pos 5))) (Var 1 sort.Int)) ≡ (Of2 binary.Rem (Number (pos 80)) (Var 1 sort.Int))
unfolding computing
pairs_17 = refl

pairs_18 : normal (Of2 binary.Off (Of2 binary.Nth (Of unary.Rev (Of2 binary.Cons Undef (Var 6 sort.List))) (Of2 binary.Add (Number (pos 3)) (Var 1 sort.Int))) (Of2 binary.Rem (Of2 binary.Sub (Number (pos 5)) (Of2 binary.Lt (Of2 binary.Shr (Number (pos 56)) (Number (pos 35))) (Of2 binary.Mul (Number (pos 2)) (Var 2 sort.Int)))) (Of2 binary.Mul (Number (pos 3)) (Of2 binary.Rem (Of unary.Unum (Global name_g)) (Number (pos 1)))))) ≡ (Of2 binary.Off (Of2 binary.Nth (Of unary.Rev (Of2 binary.Cons Undef (Var 6 sort.List))) (Of2 binary.Add (Number (pos 3)) (Var 1 sort.Int))) (Of2 binary.Rem (Of2 binary.Add (Number (pos 5)) (Of2 binary.Mul (Number (negsuc 0)) (Of2 binary.Lt (Number (pos 0)) (Of2 binary.Mul (Number (pos 2)) (Var 2 sort.Int))))) (Of2 binary.Mul (Number (pos 3)) (Of2 binary.Rem (Of unary.Unum (Global name_g)) (Number (pos 1))))))
unfolding computing
pairs_18 = refl

pairs_19 : normal (Of2 binary.Bxor (Of unary.Unum Undef) (Of2 binary.Bor (Var 1 sort.Int) (Number (pos 5)))) ≡ (Of2 binary.Bxor (Number (pos 0)) (Of2 binary.Bor (Var 1 sort.Int) (Number (pos 5))))
unfolding computing
pairs_19 = refl

pairs_20 : same (normal (Of unary.Vi (Of2 binary.Quot (Number (pos 7)) (Of2 binary.Eq (Number (pos 7)) (Var 0 sort.Int))))) (normal (Of unary.Vi (Of2 binary.Add (Of2 binary.Quot (Number (pos 7)) (Of2 binary.Eq (Number (pos 7)) (Var 0 sort.Int))) (Number (pos 0))))) ≡ true
unfolding computing
pairs_20 = refl

pairs_21 : same (normal (Of2 binary.Mul (Of unary.Num (Of2 binary.Off (Global name_g) (Number (pos 7)))) (Of2 binary.Band (Of2 binary.Shl (Number (pos 0)) (Number (pos 3))) (Of2 binary.Shl (Var 0 sort.Int) (Number (pos 7)))))) (normal (Of2 binary.Mul (Of2 binary.Band (Of2 binary.Shl (Number (pos 0)) (Number (pos 3))) (Of2 binary.Shl (Var 0 sort.Int) (Number (pos 7)))) (Of unary.Num (Of2 binary.Off (Global name_g) (Number (pos 7)))))) ≡ true
unfolding computing
pairs_21 = refl

pairs_22 : normal (Of2 binary.App (Of2 binary.App Nil Nil) (Of3 ternary.Slice (Var 5 sort.List) (Number (pos 2)) (Number (pos 3)))) ≡ (Of3 ternary.Slice (Var 5 sort.List) (Number (pos 2)) (Number (pos 3)))
unfolding computing
pairs_22 = refl

pairs_23 : same (normal (Of unary.Vi (Var 1 sort.Int))) (normal (Of unary.Vi (Of2 binary.Add (Var 1 sort.Int) (Number (pos 0))))) ≡ true
unfolding computing
pairs_23 = refl

pairs_24 : normal (Of2 binary.Off (Of unary.Vi (Number (pos 0))) (Of2 binary.Mul (Of2 binary.Shr (Number (pos 1)) (Number (pos 7))) (Of2 binary.Sub (Of unary.Num Undef) (Number (pos 2))))) ≡ (Of unary.Vi (Number (pos 0)))
unfolding computing
pairs_24 = refl

pairs_25 : normal (Of unary.Vi (Of unary.Sum (Of2 binary.Cons (Of unary.Vi (Number (pos 2))) (Of2 binary.Rep Undef (Number (pos 11)))))) ≡ (Of unary.Vi (Of unary.Sum (Of2 binary.Cons (Of unary.Vi (Number (pos 2))) (Of2 binary.Cons Undef (Of2 binary.Cons Undef (Of2 binary.Cons Undef (Of2 binary.Cons Undef (Of2 binary.Cons Undef (Of2 binary.Cons Undef (Of2 binary.Cons Undef (Of2 binary.Cons Undef (Of2 binary.Cons Undef (Of2 binary.Cons Undef (Of2 binary.Cons Undef Nil))))))))))))))
unfolding computing
pairs_25 = refl

pairs_26 : normal (Of3 ternary.Slice (Of3 ternary.Slice (Of2 binary.Cons (Of2 binary.Nth Nil (Number (pos 91))) (Of2 binary.App (Of2 binary.Rep (Of unary.Vi (Number (pos 1))) (Number (pos 18))) (Of2 binary.App Nil (Var 5 sort.List)))) (Of unary.Sum (Of2 binary.Rep (Of unary.Vi (Number (pos 1))) (Number (pos 19)))) (Of2 binary.Bor (Of2 binary.Eq (Number (pos 7)) (Var 2 sort.Int)) (Of2 binary.Add (Number (pos 7)) (Var 2 sort.Int)))) (Of2 binary.Eq (Of unary.Unum (Of unary.Vi (Number (pos 0)))) (Of2 binary.Mul (Of unary.Sum (Var 6 sort.List)) (Of2 binary.Mul (Number (pos 3)) (Number (pos 2))))) (Of2 binary.Mul (Of2 binary.Sub (Of unary.Unum Undef) (Of2 binary.Lt (Var 1 sort.Int) (Var 0 sort.Int))) (Number (pos 2)))) ≡ (Of3 ternary.Slice (Of3 ternary.Slice (Of2 binary.Cons (Of2 binary.Nth Nil (Number (pos 91))) (Of2 binary.App (Of2 binary.Rep (Of unary.Vi (Number (pos 1))) (Number (pos 18))) (Var 5 sort.List))) (Of unary.Sum (Of2 binary.Rep (Of unary.Vi (Number (pos 1))) (Number (pos 19)))) (Of2 binary.Bor (Of2 binary.Eq (Number (pos 7)) (Var 2 sort.Int)) (Of2 binary.Add (Number (pos 7)) (Var 2 sort.Int)))) (Of2 binary.Eq (Number (pos 0)) (Of2 binary.Mul (Number (pos 6)) (Of unary.Sum (Var 6 sort.List)))) (Of2 binary.Mul (Number (negsuc 1)) (Of2 binary.Lt (Var 1 sort.Int) (Var 0 sort.Int))))
unfolding computing
pairs_26 = refl

pairs_27 : normal (Of2 binary.Off (Var 4 sort.Val) (Of2 binary.Add (Number (pos 5)) (Number (pos 46)))) ≡ (Of2 binary.Off (Var 4 sort.Val) (Number (pos 51)))
unfolding computing
pairs_27 = refl

pairs_28 : normal (Of2 binary.Bor (Number (pos 5)) (Of2 binary.Bxor (Number (pos 3)) (Number (pos 0)))) ≡ (Number (pos 7))
unfolding computing
pairs_28 = refl

pairs_29 : normal (Of2 binary.Cons (Of unary.Vi (Var 2 sort.Int)) (Of2 binary.App (Of3 ternary.Upd (Var 6 sort.List) (Number (pos 7)) (Global name_g)) (Of2 binary.Rep (Of unary.Vi (Number (pos 32))) (Number (pos 5))))) ≡ (Of2 binary.Cons (Of unary.Vi (Var 2 sort.Int)) (Of2 binary.App (Of3 ternary.Upd (Var 6 sort.List) (Number (pos 7)) (Global name_g)) (Of2 binary.Cons (Of unary.Vi (Number (pos 32))) (Of2 binary.Cons (Of unary.Vi (Number (pos 32))) (Of2 binary.Cons (Of unary.Vi (Number (pos 32))) (Of2 binary.Cons (Of unary.Vi (Number (pos 32))) (Of2 binary.Cons (Of unary.Vi (Number (pos 32))) Nil)))))))
unfolding computing
pairs_29 = refl

pairs_30 : normal (Of3 ternary.Slice (Of2 binary.App Nil (Var 6 sort.List)) (Number (pos 2)) (Number (pos 7))) ≡ (Of3 ternary.Slice (Var 6 sort.List) (Number (pos 2)) (Number (pos 7)))
unfolding computing
pairs_30 = refl

pairs_31 : normal (Of2 binary.Nth (Of2 binary.Rep (Of unary.Vi (Number (pos 67))) (Number (pos 2))) (Of2 binary.Shl (Number (pos 33)) (Var 2 sort.Int))) ≡ (Of2 binary.Nth (Of2 binary.Cons (Of unary.Vi (Number (pos 67))) (Of2 binary.Cons (Of unary.Vi (Number (pos 67))) Nil)) (Of2 binary.Shl (Number (pos 33)) (Var 2 sort.Int)))
unfolding computing
pairs_31 = refl

pairs_32 : normal (Of2 binary.Add (Of unary.Sum Nil) (Of2 binary.Le (Number (pos 0)) (Number (pos 0)))) ≡ (Number (pos 1))
unfolding computing
pairs_32 = refl

pairs_33 : same (normal (Of2 binary.Nth (Of2 binary.Rep (Var 3 sort.Val) (Of unary.Unum (Var 3 sort.Val))) (Of2 binary.Mul (Var 2 sort.Int) (Var 0 sort.Int)))) (normal (Of2 binary.Nth (Of2 binary.Rep (Var 3 sort.Val) (Of unary.Unum (Var 3 sort.Val))) (Of2 binary.Mul (Var 0 sort.Int) (Var 2 sort.Int)))) ≡ true
unfolding computing
pairs_33 = refl

pairs_34 : normal (Of3 ternary.Upd (Of2 binary.App (Of3 ternary.Upd (Var 6 sort.List) (Number (pos 5)) (Var 3 sort.Val)) (Of2 binary.App Nil (Var 5 sort.List))) (Var 2 sort.Int) (Of unary.Vi (Number (pos 31)))) ≡ (Of3 ternary.Upd (Of2 binary.App (Of3 ternary.Upd (Var 6 sort.List) (Number (pos 5)) (Var 3 sort.Val)) (Var 5 sort.List)) (Var 2 sort.Int) (Of unary.Vi (Number (pos 31))))
unfolding computing
pairs_34 = refl

pairs_35 : normal (Of unary.Unum Undef) ≡ (Number (pos 0))
unfolding computing
pairs_35 = refl

pairs_36 : same (normal (Of unary.Unum (Of unary.Vi (Of unary.Unum (Of2 binary.Off (Global name_g) (Number (pos 32))))))) (normal (Of unary.Unum (Of unary.Vi (Of unary.Unum Undef)))) ≡ false
unfolding computing
pairs_36 = refl

pairs_37 : normal (Of2 binary.Off (Of2 binary.Off (Of2 binary.Off (Of unary.Vi (Number (pos 0))) (Of2 binary.Band (Number (pos 5)) (Number (pos 7)))) (Of unary.Unum (Of2 binary.Nth Nil (Number (pos 3))))) (Of unary.Num Undef)) ≡ (Of2 binary.Off (Of unary.Vi (Number (pos 0))) (Of2 binary.Add (Number (pos 5)) (Of unary.Unum (Of2 binary.Nth Nil (Number (pos 3))))))
unfolding computing
pairs_37 = refl

pairs_38 : normal (Of2 binary.Off (Of2 binary.Nth (Of2 binary.Cons Undef (Var 5 sort.List)) (Number (pos 1))) (Of unary.Num (Of2 binary.Off Undef (Var 1 sort.Int)))) ≡ (Of2 binary.Off (Of2 binary.Nth (Var 5 sort.List) (Number (pos 0))) (Of unary.Num (Of2 binary.Off Undef (Var 1 sort.Int))))
unfolding computing
pairs_38 = refl

pairs_39 : normal (Of2 binary.Off (Of unary.Vi (Of2 binary.Add (Var 1 sort.Int) (Var 1 sort.Int))) (Of unary.Unum (Of unary.Vi (Number (pos 0))))) ≡ (Of unary.Vi (Of2 binary.Mul (Number (pos 2)) (Var 1 sort.Int)))
unfolding computing
pairs_39 = refl

pairs_40 : normal (Of2 binary.Cons (Of2 binary.Off Undef (Number (pos 0))) (Of3 ternary.Slice (Of2 binary.App Nil Nil) (Number (pos 47)) (Var 1 sort.Int))) ≡ (Of2 binary.Cons Undef (Of3 ternary.Slice Nil (Number (pos 47)) (Var 1 sort.Int)))
unfolding computing
pairs_40 = refl

pairs_41 : normal (Of3 ternary.Upd (Of2 binary.Cons (Of2 binary.Nth Nil (Var 2 sort.Int)) (Of2 binary.Cons (Var 4 sort.Val) (Of2 binary.Rep (Var 3 sort.Val) (Var 1 sort.Int)))) (Number (pos 3)) (Of2 binary.Off (Of2 binary.Nth (Var 6 sort.List) (Number (pos 19))) (Of2 binary.Le (Number (pos 7)) (Number (pos 1))))) ≡ (Of2 binary.Cons (Of2 binary.Nth Nil (Var 2 sort.Int)) (Of2 binary.Cons (Var 4 sort.Val) (Of3 ternary.Upd (Of2 binary.Rep (Var 3 sort.Val) (Var 1 sort.Int)) (Number (pos 1)) (Of2 binary.Nth (Var 6 sort.List) (Number (pos 19))))))
unfolding computing
pairs_41 = refl

pairs_42 : same (normal (Of2 binary.Mul (Of2 binary.Mul (Number (pos 1)) (Var 1 sort.Int)) (Of2 binary.Sub (Var 1 sort.Int) (Number (pos 5))))) (normal (Of2 binary.Mul (Number (pos 1)) (Of2 binary.Mul (Var 1 sort.Int) (Of2 binary.Sub (Var 1 sort.Int) (Number (pos 5)))))) ≡ true
unfolding computing
pairs_42 = refl

pairs_43 : normal (Of2 binary.App (Of2 binary.App Nil Nil) (Of2 binary.Rep (Var 3 sort.Val) (Number (pos 7)))) ≡ (Of2 binary.Cons (Var 3 sort.Val) (Of2 binary.Cons (Var 3 sort.Val) (Of2 binary.Cons (Var 3 sort.Val) (Of2 binary.Cons (Var 3 sort.Val) (Of2 binary.Cons (Var 3 sort.Val) (Of2 binary.Cons (Var 3 sort.Val) (Of2 binary.Cons (Var 3 sort.Val) Nil)))))))
unfolding computing
pairs_43 = refl

pairs_44 : normal (Of unary.Vi (Of unary.Unum (Of unary.Vi (Number (pos 48))))) ≡ (Of unary.Vi (Number (pos 48)))
unfolding computing
pairs_44 = refl

pairs_45 : normal (Of2 binary.Rep (Of unary.Vi (Of2 binary.Bxor (Of2 binary.Bor (Var 1 sort.Int) (Var 2 sort.Int)) (Of unary.Num (Of unary.Vi (Number (pos 1)))))) (Number (pos 7))) ≡ (Of2 binary.Cons (Of unary.Vi (Of2 binary.Bxor (Of2 binary.Bor (Var 1 sort.Int) (Var 2 sort.Int)) (Number (pos 1)))) (Of2 binary.Cons (Of unary.Vi (Of2 binary.Bxor (Of2 binary.Bor (Var 1 sort.Int) (Var 2 sort.Int)) (Number (pos 1)))) (Of2 binary.Cons (Of unary.Vi (Of2 binary.Bxor (Of2 binary.Bor (Var 1 sort.Int) (Var 2 sort.Int)) (Number (pos 1)))) (Of2 binary.Cons (Of unary.Vi (Of2 binary.Bxor (Of2 binary.Bor (Var 1 sort.Int) (Var 2 sort.Int)) (Number (pos 1)))) (Of2 binary.Cons (Of unary.Vi (Of2 binary.Bxor (Of2 binary.Bor (Var 1 sort.Int) (Var 2 sort.Int)) (Number (pos 1)))) (Of2 binary.Cons (Of unary.Vi (Of2 binary.Bxor (Of2 binary.Bor (Var 1 sort.Int) (Var 2 sort.Int)) (Number (pos 1)))) (Of2 binary.Cons (Of unary.Vi (Of2 binary.Bxor (Of2 binary.Bor (Var 1 sort.Int) (Var 2 sort.Int)) (Number (pos 1)))) Nil)))))))
unfolding computing
pairs_45 = refl

pairs_46 : same (normal (Of2 binary.Off (Of2 binary.Nth (Of2 binary.Cons (Of2 binary.Nth (Var 6 sort.List) (Number (pos 0))) (Var 5 sort.List)) (Of2 binary.Shl (Number (pos 5)) (Var 2 sort.Int))) (Of2 binary.Add (Var 2 sort.Int) (Of unary.Unum (Global name_g))))) (normal (Of2 binary.Off (Of2 binary.Nth (Of2 binary.Cons Undef (Var 5 sort.List)) (Of2 binary.Shl (Number (pos 5)) (Var 2 sort.Int))) (Of2 binary.Add (Of unary.Unum (Global name_g)) (Var 2 sort.Int)))) ≡ false
unfolding computing
pairs_46 = refl

pairs_47 : normal (Of2 binary.Rep (Var 3 sort.Val) (Number (pos 1))) ≡ (Of2 binary.Cons (Var 3 sort.Val) Nil)
unfolding computing
pairs_47 = refl

pairs_48 : same (normal (Of2 binary.Mul (Of2 binary.Sub (Of2 binary.Rem (Var 0 sort.Int) (Of2 binary.Bxor (Var 0 sort.Int) (Number (pos 4294967296)))) (Of unary.Num (Of2 binary.Off Undef (Var 1 sort.Int)))) (Of2 binary.Sub (Number (pos 7)) (Of2 binary.Add (Of unary.Unum (Of unary.Vi (Number (pos 5)))) (Of2 binary.Bxor (Var 2 sort.Int) (Number (pos 2))))))) (normal (Of2 binary.Mul (Number (pos 1)) (Of2 binary.Sub (Of2 binary.Rem (Var 0 sort.Int) (Of2 binary.Bxor (Var 0 sort.Int) (Number (pos 4294967296)))) (Number (pos 1))))) ≡ false
unfolding computing
pairs_48 = refl

pairs_49 : normal (Of unary.Rev (Of2 binary.Rep (Global name_g) (Of unary.Len Nil))) ≡ Nil
unfolding computing
pairs_49 = refl

pairs_50 : normal (Of2 binary.Rep (Of2 binary.Off (Of unary.Vi (Number (pos 91))) (Of2 binary.Mul (Number (pos 81)) (Number (pos 5)))) (Number (pos 9))) ≡ (Of2 binary.Cons (Of2 binary.Off (Of unary.Vi (Number (pos 91))) (Number (pos 405))) (Of2 binary.Cons (Of2 binary.Off (Of unary.Vi (Number (pos 91))) (Number (pos 405))) (Of2 binary.Cons (Of2 binary.Off (Of unary.Vi (Number (pos 91))) (Number (pos 405))) (Of2 binary.Cons (Of2 binary.Off (Of unary.Vi (Number (pos 91))) (Number (pos 405))) (Of2 binary.Cons (Of2 binary.Off (Of unary.Vi (Number (pos 91))) (Number (pos 405))) (Of2 binary.Cons (Of2 binary.Off (Of unary.Vi (Number (pos 91))) (Number (pos 405))) (Of2 binary.Cons (Of2 binary.Off (Of unary.Vi (Number (pos 91))) (Number (pos 405))) (Of2 binary.Cons (Of2 binary.Off (Of unary.Vi (Number (pos 91))) (Number (pos 405))) (Of2 binary.Cons (Of2 binary.Off (Of unary.Vi (Number (pos 91))) (Number (pos 405))) Nil)))))))))
unfolding computing
pairs_50 = refl

pairs_51 : same (normal (Of2 binary.Rep (Of2 binary.Off (Global name_g) (Number (pos 1))) (Number (pos 19)))) (normal Nil) ≡ false
unfolding computing
pairs_51 = refl

pairs_52 : normal (Of2 binary.Nth (Of unary.Rev (Of3 ternary.Upd (Of2 binary.App (Of2 binary.Cons Undef Nil) (Of2 binary.App (Var 6 sort.List) Nil)) (Number (pos 31)) (Of unary.Vi (Number (pos 1))))) (Of2 binary.Sub (Number (pos 5)) (Number (pos 0)))) ≡ (Of2 binary.Nth (Of unary.Rev (Of2 binary.Cons Undef (Of3 ternary.Upd (Of2 binary.App (Var 6 sort.List) Nil) (Number (pos 30)) (Of unary.Vi (Number (pos 1)))))) (Number (pos 5)))
unfolding computing
pairs_52 = refl

pairs_53 : normal (Of2 binary.Off (Of unary.Vi (Of2 binary.Sub (Of unary.Num Undef) (Of unary.Unum (Of unary.Vi (Number (pos 5)))))) (Of2 binary.Le (Number (pos 0)) (Of2 binary.Bxor (Of2 binary.Bor (Of2 binary.Add (Var 0 sort.Int) (Number (pos 3))) (Of unary.Sum (Var 5 sort.List))) (Number (pos 7))))) ≡ (Of2 binary.Off (Of unary.Vi (Number (pos 4294967291))) (Of2 binary.Le (Number (pos 0)) (Of2 binary.Bxor (Of2 binary.Bor (Of2 binary.Add (Number (pos 3)) (Var 0 sort.Int)) (Of unary.Sum (Var 5 sort.List))) (Number (pos 7)))))
unfolding computing
pairs_53 = refl

pairs_54 : normal (Of2 binary.Off (Of2 binary.Nth (Of3 ternary.Slice (Of unary.Rev Nil) (Number (pos 7)) (Var 0 sort.Int)) (Of2 binary.Band (Var 0 sort.Int) (Number (pos 4294967295)))) (Of2 binary.Lt (Of unary.Num Undef) (Of unary.Len (Of2 binary.Rep Undef (Number (pos 2)))))) ≡ (Of2 binary.Off (Of2 binary.Nth (Of3 ternary.Slice Nil (Number (pos 7)) (Var 0 sort.Int)) (Of2 binary.Band (Var 0 sort.Int) (Number (pos 4294967295)))) (Number (pos 1)))
unfolding computing
pairs_54 = refl

pairs_55 : normal (Of2 binary.App (Of2 binary.Rep (Of2 binary.Off (Var 3 sort.Val) (Number (pos 0))) (Number (pos 3))) (Of2 binary.Cons (Of2 binary.Off Undef (Number (pos 5))) (Of2 binary.Cons Undef (Of2 binary.Cons Undef Nil)))) ≡ (Of2 binary.Cons (Var 3 sort.Val) (Of2 binary.Cons (Var 3 sort.Val) (Of2 binary.Cons (Var 3 sort.Val) (Of2 binary.Cons (Of2 binary.Off Undef (Number (pos 5))) (Of2 binary.Cons Undef (Of2 binary.Cons Undef Nil))))))
unfolding computing
pairs_55 = refl

pairs_56 : normal (Of3 ternary.Slice (Of2 binary.App (Of2 binary.Cons (Global name_g) (Of2 binary.App (Var 5 sort.List) Nil)) (Of2 binary.App (Of2 binary.Cons (Global name_g) Nil) (Of2 binary.Cons Undef Nil))) (Of unary.Sum (Of3 ternary.Slice (Var 5 sort.List) (Number (pos 7)) (Number (pos 0)))) (Of2 binary.Eq (Number (pos 5)) (Of2 binary.Mul (Number (pos 2147483648)) (Var 0 sort.Int)))) ≡ (Of3 ternary.Slice (Of2 binary.Cons (Global name_g) (Of2 binary.App (Of2 binary.App (Var 5 sort.List) Nil) (Of2 binary.Cons (Global name_g) (Of2 binary.Cons Undef Nil)))) (Of unary.Sum (Of3 ternary.Slice (Var 5 sort.List) (Number (pos 7)) (Number (pos 0)))) (Of2 binary.Eq (Number (pos 5)) (Of2 binary.Mul (Number (pos 2147483648)) (Var 0 sort.Int))))
unfolding computing
pairs_56 = refl

pairs_57 : normal (Of2 binary.Sub (Of unary.Sum Nil) (Number (pos 5))) ≡ (Number (negsuc 4))
unfolding computing
pairs_57 = refl

pairs_58 : same (normal (Of unary.Rev (Of2 binary.Cons Undef (Of2 binary.App (Var 5 sort.List) (Var 5 sort.List))))) (normal Nil) ≡ false
unfolding computing
pairs_58 = refl

pairs_59 : normal (Of2 binary.Rep (Of2 binary.Nth (Of2 binary.Cons Undef (Var 5 sort.List)) (Of2 binary.Mul (Number (pos 2)) (Number (pos 5)))) (Var 2 sort.Int)) ≡ (Of2 binary.Rep (Of2 binary.Nth (Var 5 sort.List) (Number (pos 9))) (Var 2 sort.Int))
unfolding computing
pairs_59 = refl

pairs_60 : normal (Of2 binary.Off (Of unary.Vi (Of2 binary.Shl (Var 0 sort.Int) (Number (pos 5)))) (Of2 binary.Sub (Of2 binary.Le (Var 1 sort.Int) (Var 2 sort.Int)) (Of2 binary.Shr (Number (pos 2)) (Number (pos 1))))) ≡ (Of2 binary.Off (Of unary.Vi (Of2 binary.Shl (Var 0 sort.Int) (Number (pos 5)))) (Of2 binary.Add (Number (negsuc 0)) (Of2 binary.Le (Var 1 sort.Int) (Var 2 sort.Int))))
unfolding computing
pairs_60 = refl

pairs_61 : same (normal (Of2 binary.Off (Of unary.Vi (Number (pos 7))) (Var 0 sort.Int))) (normal Undef) ≡ false
unfolding computing
pairs_61 = refl

pairs_62 : normal (Of2 binary.Rep (Of unary.Vi (Number (pos 1))) (Number (pos 2))) ≡ (Of2 binary.Cons (Of unary.Vi (Number (pos 1))) (Of2 binary.Cons (Of unary.Vi (Number (pos 1))) Nil))
unfolding computing
pairs_62 = refl

pairs_63 : normal (Of2 binary.Nth (Of3 ternary.Upd (Var 6 sort.List) (Var 2 sort.Int) (Global name_g)) (Of unary.Unum Undef)) ≡ (Of2 binary.Nth (Of3 ternary.Upd (Var 6 sort.List) (Var 2 sort.Int) (Global name_g)) (Number (pos 0)))
unfolding computing
pairs_63 = refl

pairs_64 : same (normal (Of2 binary.Shl (Of2 binary.Sub (Of2 binary.Add (Of2 binary.Band (Of2 binary.Lt (Number (pos 97)) (Number (pos 0))) (Of2 binary.Bxor (Var 0 sort.Int) (Number (pos 7)))) (Of unary.Len Nil)) (Of2 binary.Shr (Of unary.Num (Of unary.Vi (Var 0 sort.Int))) (Of unary.Unum (Global name_g)))) (Of2 binary.Band (Of2 binary.Le (Of2 binary.Shr (Of unary.Unum (Global name_g)) (Of2 binary.Bor (Number (pos 0)) (Var 1 sort.Int))) (Of unary.Len (Of unary.Rev Nil))) (Of unary.Unum (Of2 binary.Off (Var 4 sort.Val) (Of2 binary.Le (Number (pos 1)) (Number (pos 1)))))))) (normal (Of2 binary.Shl (Of2 binary.Sub (Of2 binary.Sub (Of2 binary.Band (Of2 binary.Lt (Number (pos 97)) (Number (pos 0))) (Of2 binary.Bxor (Var 0 sort.Int) (Number (pos 7)))) (Of2 binary.Sub (Number (pos 0)) (Of unary.Len Nil))) (Of2 binary.Shr (Of unary.Num (Of unary.Vi (Var 0 sort.Int))) (Of unary.Unum (Global name_g)))) (Of2 binary.Band (Of2 binary.Le (Of2 binary.Shr (Of unary.Unum (Global name_g)) (Of2 binary.Bor (Number (pos 0)) (Var 1 sort.Int))) (Of unary.Len (Of unary.Rev Nil))) (Of unary.Unum (Of2 binary.Off (Var 4 sort.Val) (Of2 binary.Le (Number (pos 1)) (Number (pos 1)))))))) ≡ true
unfolding computing
pairs_64 = refl

pairs_65 : normal (Of2 binary.Cons (Of2 binary.Nth (Of3 ternary.Upd (Of2 binary.Cons Undef (Var 6 sort.List)) (Number (pos 18446744073709551616)) Undef) (Number (pos 5))) (Of2 binary.Cons (Of2 binary.Nth (Of2 binary.App Nil Nil) (Number (pos 2))) Nil)) ≡ (Of2 binary.Cons (Of2 binary.Nth (Of3 ternary.Upd (Var 6 sort.List) (Number (pos 18446744073709551615)) Undef) (Number (pos 4))) (Of2 binary.Cons (Of2 binary.Nth Nil (Number (pos 2))) Nil))
unfolding computing
pairs_65 = refl

pairs_66 : normal (Of2 binary.Nth (Of3 ternary.Slice Nil (Number (pos 2)) (Of2 binary.Band (Of2 binary.Add (Number (pos 170141183460469231731687303715884105727)) (Number (pos 170141183460469231731687303715884105727))) (Of2 binary.Bor (Number (pos 1)) (Number (pos 2))))) (Of2 binary.Quot (Var 1 sort.Int) (Var 2 sort.Int))) ≡ (Of2 binary.Nth (Of3 ternary.Slice Nil (Number (pos 2)) (Of2 binary.Band (Of2 binary.Add (Number (pos 170141183460469231731687303715884105727)) (Number (pos 170141183460469231731687303715884105727))) (Number (pos 3)))) (Of2 binary.Quot (Var 1 sort.Int) (Var 2 sort.Int)))
unfolding computing
pairs_66 = refl

pairs_67 : same (normal (Of2 binary.Nth (Of2 binary.App (Of2 binary.Rep (Of2 binary.Off (Of unary.Vi (Number (pos 2))) (Var 2 sort.Int)) (Of2 binary.Add (Var 0 sort.Int) (Var 1 sort.Int))) (Of3 ternary.Upd (Of unary.Rev (Of2 binary.Cons (Of unary.Vi (Number (pos 5))) Nil)) (Of unary.Sum (Of3 ternary.Upd (Var 6 sort.List) (Var 1 sort.Int) (Of unary.Vi (Number (pos 15))))) (Of unary.Vi (Number (pos 3))))) (Of2 binary.Shl (Number (pos 2)) (Number (pos 5))))) (normal (Of2 binary.Nth (Of2 binary.App (Of2 binary.Rep (Of2 binary.Off (Of unary.Vi (Number (pos 2))) (Var 2 sort.Int)) (Of2 binary.Add (Var 1 sort.Int) (Var 0 sort.Int))) (Of3 ternary.Upd (Of unary.Rev (Of2 binary.Cons (Of unary.Vi (Number (pos 5))) Nil)) (Of unary.Sum (Of3 ternary.Upd (Var 6 sort.List) (Var 1 sort.Int) (Of unary.Vi (Number (pos 15))))) (Of unary.Vi (Of2 binary.Add (Number (pos 3)) (Number (pos 0)))))) (Of2 binary.Shl (Number (pos 2)) (Number (pos 5))))) ≡ true
unfolding computing
pairs_67 = refl

pairs_68 : normal (Of2 binary.Shr (Of2 binary.Lt (Number (pos 170141183460469231731687303715884105727)) (Number (pos 0))) (Var 2 sort.Int)) ≡ (Of2 binary.Shr (Number (pos 0)) (Var 2 sort.Int))
unfolding computing
pairs_68 = refl

pairs_69 : same (normal (Of2 binary.Off (Of2 binary.Off (Of2 binary.Nth (Of3 ternary.Upd Nil (Number (pos 31)) (Global name_g)) (Of unary.Len (Var 5 sort.List))) (Of unary.Unum (Of2 binary.Nth (Of2 binary.Cons Undef Nil) (Of2 binary.Band (Var 0 sort.Int) (Number (pos 2)))))) (Of unary.Sum (Of3 ternary.Slice (Of2 binary.Cons (Var 4 sort.Val) (Of unary.Rev (Var 5 sort.List))) (Of unary.Unum (Var 4 sort.Val)) (Number (pos 3)))))) (normal (Of2 binary.Off (Of2 binary.Off (Of2 binary.Nth (Of3 ternary.Upd Nil (Number (pos 31)) (Global name_g)) (Of unary.Len (Var 5 sort.List))) (Of unary.Unum (Of2 binary.Nth (Of2 binary.Cons Undef Nil) (Of2 binary.Band (Var 0 sort.Int) (Number (pos 2)))))) (Number (pos 1)))) ≡ false
unfolding computing
pairs_69 = refl

pairs_70 : same (normal (Of unary.Vi (Of unary.Num (Of unary.Vi (Var 2 sort.Int))))) (normal (Of unary.Vi (Of2 binary.Add (Of unary.Num (Of unary.Vi (Var 2 sort.Int))) (Number (pos 0))))) ≡ true
unfolding computing
pairs_70 = refl

pairs_71 : normal (Of2 binary.App Nil (Of3 ternary.Upd (Var 5 sort.List) (Number (pos 3)) (Global name_g))) ≡ (Of3 ternary.Upd (Var 5 sort.List) (Number (pos 3)) (Global name_g))
unfolding computing
pairs_71 = refl

pairs_72 : same (normal (Of3 ternary.Upd (Of2 binary.Cons (Of unary.Vi (Number (pos 7))) (Of2 binary.Rep Undef (Number (pos 80)))) (Var 2 sort.Int) (Of unary.Vi (Number (pos 2))))) (normal (Of3 ternary.Upd (Of2 binary.Cons (Of unary.Vi (Of2 binary.Add (Number (pos 7)) (Number (pos 0)))) (Of2 binary.Rep Undef (Number (pos 80)))) (Var 2 sort.Int) (Of unary.Vi (Of2 binary.Add (Number (pos 2)) (Number (pos 0)))))) ≡ true
unfolding computing
pairs_72 = refl

pairs_73 : normal (Of2 binary.Nth (Of2 binary.Cons (Of unary.Vi (Number (pos 4294967295))) (Of2 binary.Cons Undef (Of3 ternary.Upd Nil (Number (pos 9223372036854775813)) (Of unary.Vi (Number (pos 4294967296)))))) (Of unary.Len Nil)) ≡ (Of unary.Vi (Number (pos 4294967295)))
unfolding computing
pairs_73 = refl

pairs_74 : normal (Of2 binary.Rep (Of2 binary.Nth Nil (Number (pos 1))) (Number (pos 2))) ≡ (Of2 binary.Cons (Of2 binary.Nth Nil (Number (pos 1))) (Of2 binary.Cons (Of2 binary.Nth Nil (Number (pos 1))) Nil))
unfolding computing
pairs_74 = refl

pairs_75 : normal (Of unary.Vi (Of unary.Unum (Of unary.Vi (Number (pos 3))))) ≡ (Of unary.Vi (Number (pos 3)))
unfolding computing
pairs_75 = refl

pairs_76 : normal (Of2 binary.App (Of2 binary.Cons (Of unary.Vi (Number (pos 0))) (Of unary.Rev (Of2 binary.Cons (Var 3 sort.Val) (Var 5 sort.List)))) (Of2 binary.Cons (Of2 binary.Off (Of unary.Vi (Number (pos 4294967295))) (Var 1 sort.Int)) (Of unary.Rev (Of2 binary.Cons (Global name_g) Nil)))) ≡ (Of2 binary.Cons (Of unary.Vi (Number (pos 0))) (Of2 binary.App (Of unary.Rev (Of2 binary.Cons (Var 3 sort.Val) (Var 5 sort.List))) (Of2 binary.Cons (Of2 binary.Off (Of unary.Vi (Number (pos 4294967295))) (Var 1 sort.Int)) (Of unary.Rev (Of2 binary.Cons (Global name_g) Nil)))))
unfolding computing
pairs_76 = refl

pairs_77 : same (normal (Of2 binary.Mul (Of2 binary.Bxor (Of2 binary.Add (Number (pos 0)) (Var 0 sort.Int)) (Of2 binary.Add (Number (pos 0)) (Number (pos 3)))) (Of unary.Unum (Of2 binary.Off (Of unary.Vi (Number (pos 2))) (Number (pos 2)))))) (normal (Of2 binary.Mul (Of2 binary.Bxor (Of2 binary.Add (Number (pos 0)) (Var 0 sort.Int)) (Of2 binary.Add (Number (pos 0)) (Number (pos 3)))) (Of unary.Unum (Of2 binary.Off (Of unary.Vi (Of2 binary.Add (Number (pos 2)) (Number (pos 0)))) (Number (pos 2)))))) ≡ true
unfolding computing
pairs_77 = refl

pairs_78 : normal (Of2 binary.Off (Of2 binary.Nth Nil (Number (pos 2))) (Of2 binary.Quot (Number (pos 2)) (Number (pos 7)))) ≡ (Of2 binary.Nth Nil (Number (pos 2)))
unfolding computing
pairs_78 = refl

pairs_79 : same (normal (Of2 binary.Off (Of unary.Vi (Of2 binary.Add (Var 0 sort.Int) (Number (pos 1)))) (Of2 binary.Shl (Of unary.Unum (Global name_g)) (Of2 binary.Add (Var 1 sort.Int) (Number (pos 2)))))) (normal (Of2 binary.Off (Of unary.Vi (Of2 binary.Add (Number (pos 1)) (Var 0 sort.Int))) (Of2 binary.Shl (Of unary.Unum (Global name_g)) (Of2 binary.Add (Var 1 sort.Int) (Number (pos 2)))))) ≡ true
unfolding computing
pairs_79 = refl

pairs_80 : same (normal (Of unary.Vi (Of2 binary.Lt (Of2 binary.Bxor (Var 1 sort.Int) (Var 1 sort.Int)) (Of unary.Num (Global name_g))))) (normal (Of unary.Vi (Of2 binary.Add (Of2 binary.Lt (Of2 binary.Bxor (Var 1 sort.Int) (Var 1 sort.Int)) (Of unary.Num (Global name_g))) (Number (pos 0))))) ≡ true
unfolding computing
pairs_80 = refl

pairs_81 : normal (Of2 binary.Lt (Of2 binary.Lt (Of2 binary.Shl (Var 0 sort.Int) (Number (pos 1))) (Of2 binary.Mul (Number (pos 2)) (Number (pos 15)))) (Of2 binary.Eq (Var 0 sort.Int) (Of2 binary.Rem (Var 2 sort.Int) (Var 2 sort.Int)))) ≡ (Of2 binary.Lt (Of2 binary.Lt (Of2 binary.Shl (Var 0 sort.Int) (Number (pos 1))) (Number (pos 30))) (Of2 binary.Eq (Var 0 sort.Int) (Of2 binary.Rem (Var 2 sort.Int) (Var 2 sort.Int))))
unfolding computing
pairs_81 = refl

pairs_82 : normal (Of2 binary.App (Of2 binary.Cons Undef (Of unary.Rev Nil)) (Of2 binary.Cons (Of unary.Vi (Number (pos 1))) (Of unary.Rev (Var 6 sort.List)))) ≡ (Of2 binary.Cons Undef (Of2 binary.Cons (Of unary.Vi (Number (pos 1))) (Of unary.Rev (Var 6 sort.List))))
unfolding computing
pairs_82 = refl

pairs_83 : normal (Of unary.Vi (Of2 binary.Lt (Of2 binary.Sub (Of2 binary.Sub (Number (pos 7)) (Of2 binary.Sub (Number (pos 1)) (Number (pos 0)))) (Number (pos 3))) (Of unary.Unum (Of2 binary.Off (Var 4 sort.Val) (Number (pos 1)))))) ≡ (Of unary.Vi (Of2 binary.Lt (Number (pos 3)) (Of unary.Unum (Of2 binary.Off (Var 4 sort.Val) (Number (pos 1))))))
unfolding computing
pairs_83 = refl

pairs_84 : normal (Of2 binary.Add (Of2 binary.Mul (Number (pos 2)) (Of2 binary.Shr (Number (pos 2)) (Number (pos 3)))) (Of2 binary.Sub (Of2 binary.Add (Number (pos 2)) (Number (pos 5))) (Number (pos 7)))) ≡ (Number (pos 0))
unfolding computing
pairs_84 = refl

pairs_85 : same (normal (Of2 binary.Cons (Of unary.Vi (Number (pos 3))) (Of3 ternary.Slice (Of3 ternary.Upd Nil (Number (pos 2)) (Global name_g)) (Var 2 sort.Int) (Number (pos 25))))) (normal (Of2 binary.Cons (Of unary.Vi (Of2 binary.Add (Number (pos 3)) (Number (pos 0)))) (Of3 ternary.Slice (Of3 ternary.Upd Nil (Number (pos 2)) (Global name_g)) (Var 2 sort.Int) (Number (pos 25))))) ≡ true
unfolding computing
pairs_85 = refl

pairs_86 : normal (Of2 binary.App (Of2 binary.Cons Undef (Var 6 sort.List)) (Of2 binary.Cons (Var 4 sort.Val) Nil)) ≡ (Of2 binary.Cons Undef (Of2 binary.App (Var 6 sort.List) (Of2 binary.Cons (Var 4 sort.Val) Nil)))
unfolding computing
pairs_86 = refl

pairs_87 : normal (Of unary.Unum (Of2 binary.Nth (Of3 ternary.Upd (Of2 binary.Rep (Global name_g) (Number (pos 16))) (Number (pos 0)) (Of unary.Vi (Number (pos 16)))) (Of unary.Unum (Var 3 sort.Val)))) ≡ (Of unary.Unum (Of2 binary.Nth (Of2 binary.Cons (Of unary.Vi (Number (pos 16))) (Of2 binary.Cons (Global name_g) (Of2 binary.Cons (Global name_g) (Of2 binary.Cons (Global name_g) (Of2 binary.Cons (Global name_g) (Of2 binary.Cons (Global name_g) (Of2 binary.Cons (Global name_g) (Of2 binary.Cons (Global name_g) (Of2 binary.Cons (Global name_g) (Of2 binary.Cons (Global name_g) (Of2 binary.Cons (Global name_g) (Of2 binary.Cons (Global name_g) (Of2 binary.Cons (Global name_g) (Of2 binary.Cons (Global name_g) (Of2 binary.Cons (Global name_g) (Of2 binary.Cons (Global name_g) Nil)))))))))))))))) (Of unary.Unum (Var 3 sort.Val))))
unfolding computing
pairs_87 = refl

pairs_88 : same (normal (Of2 binary.Nth (Of2 binary.Cons (Of unary.Vi (Number (pos 7))) (Var 6 sort.List)) (Of unary.Num (Global name_g)))) (normal (Of2 binary.Nth (Of2 binary.Cons (Of unary.Vi (Of2 binary.Add (Number (pos 7)) (Number (pos 0)))) (Var 6 sort.List)) (Of unary.Num (Global name_g)))) ≡ true
unfolding computing
pairs_88 = refl

pairs_89 : same (normal (Of3 ternary.Slice (Of unary.Rev (Of2 binary.Cons (Var 3 sort.Val) (Of2 binary.Rep (Var 4 sort.Val) (Number (pos 17))))) (Number (pos 0)) (Of2 binary.Mul (Number (pos 7)) (Of unary.Num (Var 3 sort.Val))))) (normal (Of3 ternary.Slice (Of unary.Rev (Of2 binary.Cons (Var 3 sort.Val) (Of2 binary.Rep (Var 4 sort.Val) (Number (pos 17))))) (Number (pos 0)) (Of2 binary.Mul (Of unary.Num (Var 3 sort.Val)) (Number (pos 7))))) ≡ true
unfolding computing
pairs_89 = refl

pairs_90 : normal (Of2 binary.Rep (Of2 binary.Nth (Var 5 sort.List) (Of2 binary.Band (Number (pos 5)) (Number (pos 5)))) (Number (pos 2))) ≡ (Of2 binary.Cons (Of2 binary.Nth (Var 5 sort.List) (Number (pos 5))) (Of2 binary.Cons (Of2 binary.Nth (Var 5 sort.List) (Number (pos 5))) Nil))
unfolding computing
pairs_90 = refl

pairs_91 : normal (Of2 binary.Cons (Of2 binary.Off (Of unary.Vi (Of2 binary.Mul (Number (pos 1)) (Number (pos 85070591730234615865843651857942052864)))) (Of unary.Num (Of2 binary.Off (Global name_g) (Number (pos 3))))) (Of2 binary.App (Of2 binary.Cons (Of unary.Vi (Number (pos 1))) (Of2 binary.Cons (Global name_g) (Of3 ternary.Upd (Var 6 sort.List) (Number (pos 2)) (Var 3 sort.Val)))) (Var 6 sort.List))) ≡ (Of2 binary.Cons (Of2 binary.Off (Of unary.Vi (Number (pos 0))) (Of unary.Num (Of2 binary.Off (Global name_g) (Number (pos 3))))) (Of2 binary.Cons (Of unary.Vi (Number (pos 1))) (Of2 binary.Cons (Global name_g) (Of2 binary.App (Of3 ternary.Upd (Var 6 sort.List) (Number (pos 2)) (Var 3 sort.Val)) (Var 6 sort.List)))))
unfolding computing
pairs_91 = refl

pairs_92 : normal (Of2 binary.App (Of2 binary.Cons (Of2 binary.Off (Var 4 sort.Val) (Number (pos 5))) (Of3 ternary.Slice (Of unary.Rev (Var 6 sort.List)) (Var 1 sort.Int) (Number (pos 7)))) (Of3 ternary.Upd (Of unary.Rev Nil) (Number (pos 7)) (Var 3 sort.Val))) ≡ (Of2 binary.Cons (Of2 binary.Off (Var 4 sort.Val) (Number (pos 5))) (Of2 binary.App (Of3 ternary.Slice (Of unary.Rev (Var 6 sort.List)) (Var 1 sort.Int) (Number (pos 7))) (Of3 ternary.Upd Nil (Number (pos 7)) (Var 3 sort.Val))))
unfolding computing
pairs_92 = refl

pairs_93 : same (normal (Of2 binary.Off (Of unary.Vi (Of2 binary.Mul (Of2 binary.Shr (Var 2 sort.Int) (Of2 binary.Eq (Number (pos 4294967296)) (Number (pos 2)))) (Of2 binary.Lt (Of unary.Unum (Var 4 sort.Val)) (Of2 binary.Sub (Number (pos 2)) (Number (pos 5)))))) (Of2 binary.Sub (Of2 binary.Sub (Of2 binary.Sub (Of2 binary.Eq (Number (pos 42)) (Var 0 sort.Int)) (Of unary.Unum (Var 3 sort.Val))) (Of2 binary.Eq (Of unary.Num (Var 4 sort.Val)) (Of2 binary.Sub (Number (pos 3)) (Var 1 sort.Int)))) (Of2 binary.Bor (Of2 binary.Sub (Of2 binary.Lt (Number (pos 170141183460469231731687303715884105727)) (Number (pos 0))) (Number (pos 5))) (Of unary.Num (Of unary.Vi (Var 1 sort.Int))))))) (normal (Of2 binary.Off (Of unary.Vi (Of2 binary.Add (Of2 binary.Mul (Of2 binary.Lt (Of unary.Unum (Var 4 sort.Val)) (Of2 binary.Sub (Number (pos 2)) (Number (pos 5)))) (Of2 binary.Shr (Var 2 sort.Int) (Of2 binary.Eq (Number (pos 4294967296)) (Number (pos 2))))) (Number (pos 0)))) (Of2 binary.Sub (Of2 binary.Sub (Of2 binary.Sub (Of2 binary.Eq (Number (pos 42)) (Var 0 sort.Int)) (Of unary.Unum (Var 3 sort.Val))) (Of2 binary.Eq (Of unary.Num (Var 4 sort.Val)) (Of2 binary.Sub (Number (pos 3)) (Var 1 sort.Int)))) (Of2 binary.Bor (Of2 binary.Sub (Of2 binary.Lt (Number (pos 170141183460469231731687303715884105727)) (Number (pos 0))) (Number (pos 5))) (Of unary.Num (Of unary.Vi (Var 1 sort.Int))))))) ≡ true
unfolding computing
pairs_93 = refl

pairs_94 : normal (Of2 binary.Nth (Of2 binary.App (Of2 binary.App (Of3 ternary.Slice (Of3 ternary.Upd Nil (Number (pos 2)) Undef) (Var 2 sort.Int) (Var 1 sort.Int)) (Of2 binary.Cons (Var 4 sort.Val) (Of2 binary.Rep (Var 4 sort.Val) (Number (pos 13))))) (Of2 binary.Cons (Of unary.Vi (Var 0 sort.Int)) (Of unary.Rev (Of2 binary.App Nil (Var 5 sort.List))))) (Of2 binary.Shl (Number (pos 1)) (Number (pos 7)))) ≡ (Of2 binary.Nth (Of2 binary.App (Of2 binary.App (Of3 ternary.Slice (Of3 ternary.Upd Nil (Number (pos 2)) Undef) (Var 2 sort.Int) (Var 1 sort.Int)) (Of2 binary.Cons (Var 4 sort.Val) (Of2 binary.Cons (Var 4 sort.Val) (Of2 binary.Cons (Var 4 sort.Val) (Of2 binary.Cons (Var 4 sort.Val) (Of2 binary.Cons (Var 4 sort.Val) (Of2 binary.Cons (Var 4 sort.Val) (Of2 binary.Cons (Var 4 sort.Val) (Of2 binary.Cons (Var 4 sort.Val) (Of2 binary.Cons (Var 4 sort.Val) (Of2 binary.Cons (Var 4 sort.Val) (Of2 binary.Cons (Var 4 sort.Val) (Of2 binary.Cons (Var 4 sort.Val) (Of2 binary.Cons (Var 4 sort.Val) (Of2 binary.Cons (Var 4 sort.Val) Nil))))))))))))))) (Of2 binary.Cons (Of unary.Vi (Var 0 sort.Int)) (Of unary.Rev (Var 5 sort.List)))) (Number (pos 128)))
unfolding computing
pairs_94 = refl

pairs_95 : same (normal (Of unary.Vi (Of2 binary.Quot (Of2 binary.Quot (Of2 binary.Mul (Var 1 sort.Int) (Var 2 sort.Int)) (Of unary.Unum (Global name_g))) (Of2 binary.Mul (Number (pos 1)) (Of2 binary.Shl (Number (pos 7)) (Number (pos 0))))))) (normal (Of unary.Vi (Of2 binary.Quot (Of2 binary.Quot (Of2 binary.Mul (Var 2 sort.Int) (Var 1 sort.Int)) (Of unary.Unum (Global name_g))) (Of2 binary.Mul (Number (pos 1)) (Of2 binary.Shl (Number (pos 7)) (Number (pos 0))))))) ≡ true
unfolding computing
pairs_95 = refl

pairs_96 : normal (Of2 binary.Add (Of unary.Num (Of unary.Vi (Number (pos 2)))) (Of2 binary.Le (Var 1 sort.Int) (Number (pos 0)))) ≡ (Of2 binary.Add (Number (pos 2)) (Of2 binary.Le (Var 1 sort.Int) (Number (pos 0))))
unfolding computing
pairs_96 = refl

pairs_97 : normal (Of2 binary.Off (Of2 binary.Off (Var 4 sort.Val) (Var 0 sort.Int)) (Of2 binary.Shl (Number (pos 0)) (Number (pos 2)))) ≡ (Of2 binary.Off (Var 4 sort.Val) (Var 0 sort.Int))
unfolding computing
pairs_97 = refl

pairs_98 : normal (Of2 binary.App (Of2 binary.Cons (Of2 binary.Off (Of unary.Vi (Number (pos 86))) (Var 1 sort.Int)) (Var 6 sort.List)) (Of2 binary.App (Of unary.Rev (Of3 ternary.Slice (Var 5 sort.List) (Number (pos 3)) (Var 2 sort.Int))) (Of2 binary.App (Of2 binary.App Nil Nil) (Of3 ternary.Slice (Var 5 sort.List) (Number (pos 7)) (Number (pos 3)))))) ≡ (Of2 binary.Cons (Of2 binary.Off (Of unary.Vi (Number (pos 86))) (Var 1 sort.Int)) (Of2 binary.App (Var 6 sort.List) (Of2 binary.App (Of unary.Rev (Of3 ternary.Slice (Var 5 sort.List) (Number (pos 3)) (Var 2 sort.Int))) (Of3 ternary.Slice (Var 5 sort.List) (Number (pos 7)) (Number (pos 3))))))
unfolding computing
pairs_98 = refl

pairs_99 : normal (Of2 binary.Off (Of unary.Vi (Number (pos 4294967296))) (Of unary.Num (Of2 binary.Nth (Of3 ternary.Upd (Var 5 sort.List) (Var 0 sort.Int) (Of unary.Vi (Number (pos 91)))) (Of2 binary.Shl (Number (pos 0)) (Number (pos 3)))))) ≡ (Of2 binary.Off (Of unary.Vi (Number (pos 0))) (Of unary.Num (Of2 binary.Nth (Of3 ternary.Upd (Var 5 sort.List) (Var 0 sort.Int) (Of unary.Vi (Number (pos 91)))) (Number (pos 0)))))
unfolding computing
pairs_99 = refl

pairs_100 : same (normal (Of2 binary.Band (Of2 binary.Lt (Of2 binary.Band (Of2 binary.Add (Of unary.Sum (Var 6 sort.List)) (Of2 binary.Bxor (Var 1 sort.Int) (Var 0 sort.Int))) (Var 2 sort.Int)) (Of2 binary.Sub (Of2 binary.Eq (Of2 binary.Bxor (Number (pos 22)) (Number (pos 0))) (Var 1 sort.Int)) (Of2 binary.Shl (Of unary.Unum (Of unary.Vi (Number (pos 7)))) (Of2 binary.Shl (Number (pos 1)) (Number (pos 53)))))) (Number (pos 1)))) (normal (Number (pos 1))) ≡ false
unfolding computing
pairs_100 = refl
