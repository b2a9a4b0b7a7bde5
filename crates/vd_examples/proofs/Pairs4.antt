-- Terms and their normal forms.
use Rattle.std.specs.Prelude.{◌≡◌, refl, pos, true, false}
use Rattle.vd_terms.specs.Terms.{Number, Var, Global, Undef, Nil, Of, Of2, Of3}
use Rattle.vd_rules.specs.Computing.{computing}
use Rattle.vd_rules.specs.Normal.{normal}
use Rattle.vd_rules.specs.TermOrder.{same}
use Rattle.vd_terms.specs.declared.operation.Unary.TheVariants as unary
use Rattle.vd_terms.specs.declared.operation.Binary.TheVariants as binary
use Rattle.vd_terms.specs.declared.operation.Ternary.TheVariants as ternary
use Rattle.vd_logic.specs.declared.term.Sort.TheVariants as sort
use Rattle.vd_examples.specs.Names.{name_g}

pairs_301 : same (normal (Of2 binary.Nth (Of2 binary.App (Of3 ternary.Slice (Of2 binary.Rep (Global name_g) (Number (pos 7))) (Of unary.Num (Of unary.Vi (Number (pos 5)))) (Of2 binary.Lt (Var 0 sort.Int) (Number (pos 0)))) (Of3 ternary.Upd (Of3 ternary.Upd (Of2 binary.Cons (Of unary.Vi (Number (pos 5))) (Var 6 sort.List)) (Var 1 sort.Int) (Var 4 sort.Val)) (Number (pos 7)) (Of2 binary.Nth Nil (Var 2 sort.Int)))) (Of unary.Unum Undef))) (normal (Of2 binary.Nth Nil (Of unary.Unum Undef))) ≡ false
unfolding computing
pairs_301 = refl

pairs_302 : same (normal (Of2 binary.Mul (Of2 binary.Mul (Of2 binary.Add (Of2 binary.Band (Number (pos 60)) (Of unary.Len Nil)) (Of2 binary.Le (Of2 binary.Shl (Var 1 sort.Int) (Var 1 sort.Int)) (Of unary.Unum (Global name_g)))) (Number (pos 1))) (Number (pos 1)))) (normal (Of2 binary.Mul (Of2 binary.Add (Of2 binary.Le (Of2 binary.Shl (Var 1 sort.Int) (Var 1 sort.Int)) (Of unary.Unum (Global name_g))) (Of2 binary.Band (Number (pos 60)) (Of unary.Len Nil))) (Of2 binary.Mul (Number (pos 1)) (Number (pos 1))))) ≡ true
unfolding computing
pairs_302 = refl

pairs_303 : same (normal (Of2 binary.Off (Of unary.Vi (Of unary.Num (Of2 binary.Off (Of2 binary.Off (Of unary.Vi (Number (pos 0))) (Number (pos 2))) (Of2 binary.Mul (Number (pos 85070591730234615865843651857942052864)) (Number (pos 5)))))) (Of2 binary.Le (Of unary.Num (Of2 binary.Off (Of2 binary.Nth Nil (Number (pos 3))) (Of2 binary.Add (Var 1 sort.Int) (Number (pos 5))))) (Of unary.Num (Of2 binary.Off (Of unary.Vi (Var 0 sort.Int)) (Of unary.Unum (Of unary.Vi (Number (pos 62))))))))) (normal (Of2 binary.Off (Of unary.Vi (Of unary.Num (Of2 binary.Off (Of2 binary.Off (Of unary.Vi (Number (pos 0))) (Number (pos 2))) (Of2 binary.Mul (Number (pos 5)) (Number (pos 85070591730234615865843651857942052864)))))) (Of2 binary.Le (Of unary.Num (Of2 binary.Off (Of2 binary.Nth Nil (Number (pos 3))) (Of2 binary.Add (Number (pos 5)) (Var 1 sort.Int)))) (Of unary.Num (Of2 binary.Off (Of unary.Vi (Var 0 sort.Int)) (Of unary.Unum (Of unary.Vi (Number (pos 62))))))))) ≡ false
unfolding computing
pairs_303 = refl

pairs_304 : same (normal (Of2 binary.Mul (Number (pos 4294967295)) (Of unary.Num (Of2 binary.Nth (Var 5 sort.List) (Number (pos 7)))))) (normal (Of2 binary.Mul (Of unary.Num (Of2 binary.Nth (Var 5 sort.List) (Number (pos 7)))) (Number (pos 4294967295)))) ≡ true
unfolding computing
pairs_304 = refl

pairs_305 : same (normal (Of unary.Vi (Of2 binary.Bor (Of2 binary.Mul (Of2 binary.Sub (Number (pos 7)) (Number (pos 5))) (Of unary.Sum Nil)) (Number (pos 5))))) (normal (Of unary.Vi (Of2 binary.Bor (Of2 binary.Mul (Of unary.Sum Nil) (Of2 binary.Sub (Number (pos 7)) (Number (pos 5)))) (Number (pos 5))))) ≡ true
unfolding computing
pairs_305 = refl

pairs_306 : same (normal (Of2 binary.Off (Of unary.Vi (Of unary.Unum (Global name_g))) (Of2 binary.Quot (Of2 binary.Shr (Var 1 sort.Int) (Var 0 sort.Int)) (Number (pos 26))))) (normal (Of2 binary.Off (Of unary.Vi (Of2 binary.Add (Of unary.Unum (Global name_g)) (Number (pos 0)))) (Of2 binary.Quot (Of2 binary.Shr (Var 1 sort.Int) (Var 0 sort.Int)) (Number (pos 26))))) ≡ true
unfolding computing
pairs_306 = refl

pairs_307 : same (normal (Of3 ternary.Upd (Of2 binary.Cons Undef (Of2 binary.Cons (Of unary.Vi (Number (pos 0))) (Of3 ternary.Slice (Of2 binary.App Nil (Var 5 sort.List)) (Number (pos 3)) (Number (pos 2))))) (Var 1 sort.Int) Undef)) (normal (Of3 ternary.Upd (Of2 binary.Cons Undef (Of2 binary.Cons (Of unary.Vi (Of2 binary.Add (Number (pos 0)) (Number (pos 0)))) (Of3 ternary.Slice (Of2 binary.App Nil (Var 5 sort.List)) (Number (pos 3)) (Number (pos 2))))) (Var 1 sort.Int) Undef)) ≡ true
unfolding computing
pairs_307 = refl

pairs_308 : same (normal (Of2 binary.Sub (Of2 binary.Band (Of2 binary.Lt (Of unary.Num (Global name_g)) (Of2 binary.Le (Of unary.Num (Of unary.Vi (Number (pos 2)))) (Of2 binary.Mul (Number (pos 3)) (Var 2 sort.Int)))) (Number (pos 18446744073709551616))) (Of2 binary.Rem (Var 1 sort.Int) (Of2 binary.Sub (Of2 binary.Le (Of2 binary.Lt (Var 2 sort.Int) (Number (pos 44))) (Of2 binary.Add (Number (pos 0)) (Var 0 sort.Int))) (Number (pos 3)))))) (normal (Of2 binary.Sub (Of2 binary.Band (Of2 binary.Lt (Of unary.Num (Global name_g)) (Of2 binary.Le (Of unary.Num (Of unary.Vi (Number (pos 2)))) (Of2 binary.Mul (Number (pos 3)) (Var 2 sort.Int)))) (Number (pos 18446744073709551616))) (Of2 binary.Rem (Var 1 sort.Int) (Of2 binary.Sub (Of2 binary.Le (Of2 binary.Lt (Var 2 sort.Int) (Number (pos 44))) (Of2 binary.Sub (Number (pos 0)) (Of2 binary.Sub (Number (pos 0)) (Var 0 sort.Int)))) (Number (pos 3)))))) ≡ true
unfolding computing
pairs_308 = refl

pairs_309 : same (normal (Of2 binary.Eq (Of2 binary.Rem (Of2 binary.Sub (Var 2 sort.Int) (Number (pos 2))) (Of2 binary.Shl (Number (pos 17)) (Var 2 sort.Int))) (Of unary.Num (Of unary.Vi (Number (pos 18446744073709551616)))))) (normal (Of2 binary.Eq (Of2 binary.Rem (Of2 binary.Sub (Var 2 sort.Int) (Number (pos 2))) (Of2 binary.Shl (Number (pos 17)) (Var 2 sort.Int))) (Of unary.Num (Of unary.Vi (Of2 binary.Add (Number (pos 18446744073709551616)) (Number (pos 0))))))) ≡ true
unfolding computing
pairs_309 = refl

pairs_310 : same (normal (Of2 binary.Off (Var 3 sort.Val) (Of2 binary.Bor (Of unary.Unum (Of unary.Vi (Of2 binary.Band (Number (pos 2)) (Var 0 sort.Int)))) (Of2 binary.Add (Of2 binary.Band (Of2 binary.Mul (Number (pos 7)) (Number (pos 3))) (Var 1 sort.Int)) (Number (pos 3)))))) (normal (Of2 binary.Off (Var 3 sort.Val) (Of2 binary.Bor (Number (pos 1)) (Of2 binary.Add (Number (pos 3)) (Of2 binary.Band (Of2 binary.Mul (Number (pos 3)) (Number (pos 7))) (Var 1 sort.Int)))))) ≡ false
unfolding computing
pairs_310 = refl

pairs_311 : same (normal (Of2 binary.Nth (Of3 ternary.Upd (Var 5 sort.List) (Var 2 sort.Int) (Global name_g)) (Of2 binary.Add (Number (pos 2)) (Var 1 sort.Int)))) (normal (Of2 binary.Nth (Of3 ternary.Upd (Var 5 sort.List) (Var 2 sort.Int) (Global name_g)) (Of2 binary.Sub (Number (pos 2)) (Of2 binary.Sub (Number (pos 0)) (Var 1 sort.Int))))) ≡ true
unfolding computing
pairs_311 = refl

pairs_312 : same (normal (Of2 binary.Shl (Of2 binary.Sub (Of2 binary.Bxor (Number (pos 0)) (Of2 binary.Shl (Number (pos 5)) (Number (pos 3)))) (Of2 binary.Sub (Of unary.Len (Var 5 sort.List)) (Of2 binary.Bxor (Var 2 sort.Int) (Var 1 sort.Int)))) (Of2 binary.Sub (Of2 binary.Bor (Of2 binary.Shr (Number (pos 17)) (Var 1 sort.Int)) (Var 2 sort.Int)) (Of unary.Unum (Of2 binary.Off (Of unary.Vi (Number (pos 3))) (Var 1 sort.Int)))))) (normal (Of2 binary.Shl (Of2 binary.Sub (Of2 binary.Bxor (Number (pos 0)) (Of2 binary.Shl (Number (pos 5)) (Number (pos 3)))) (Of2 binary.Sub (Of unary.Len (Var 5 sort.List)) (Of2 binary.Bxor (Var 2 sort.Int) (Var 1 sort.Int)))) (Of2 binary.Sub (Of2 binary.Bor (Of2 binary.Shr (Number (pos 17)) (Var 1 sort.Int)) (Var 2 sort.Int)) (Of unary.Unum (Of2 binary.Off (Of unary.Vi (Of2 binary.Add (Number (pos 3)) (Number (pos 0)))) (Var 1 sort.Int)))))) ≡ true
unfolding computing
pairs_312 = refl

pairs_313 : same (normal (Of2 binary.Bor (Of unary.Unum Undef) (Of2 binary.Bor (Of unary.Unum (Var 4 sort.Val)) (Of2 binary.Add (Var 2 sort.Int) (Var 1 sort.Int))))) (normal (Of2 binary.Bor (Of unary.Unum Undef) (Of2 binary.Bor (Of unary.Unum (Var 4 sort.Val)) (Of2 binary.Add (Var 1 sort.Int) (Var 2 sort.Int))))) ≡ true
unfolding computing
pairs_313 = refl

pairs_314 : same (normal (Of unary.Vi (Of2 binary.Quot (Of2 binary.Add (Number (pos 0)) (Number (pos 7))) (Number (pos 18446744073709551616))))) (normal (Of unary.Vi (Of2 binary.Add (Of2 binary.Quot (Of2 binary.Add (Number (pos 7)) (Number (pos 0))) (Number (pos 18446744073709551616))) (Number (pos 0))))) ≡ true
unfolding computing
pairs_314 = refl

pairs_315 : same (normal (Of2 binary.Add (Of unary.Num (Of2 binary.Off (Of unary.Vi (Of unary.Unum (Var 4 sort.Val))) (Of2 binary.Lt (Of2 binary.Add (Number (pos 1)) (Number (pos 7))) (Of2 binary.Sub (Var 0 sort.Int) (Number (pos 7)))))) (Var 2 sort.Int))) (normal (Of2 binary.Sub (Of unary.Num (Of2 binary.Off (Of unary.Vi (Of unary.Unum (Var 4 sort.Val))) (Of2 binary.Lt (Of2 binary.Add (Number (pos 7)) (Number (pos 1))) (Of2 binary.Sub (Var 0 sort.Int) (Number (pos 7)))))) (Of2 binary.Sub (Number (pos 0)) (Var 2 sort.Int)))) ≡ true
unfolding computing
pairs_315 = refl

pairs_316 : same (normal (Of3 ternary.Upd (Of2 binary.App (Of3 ternary.Slice (Of2 binary.App (Var 6 sort.List) (Var 6 sort.List)) (Var 1 sort.Int) (Var 1 sort.Int)) (Of3 ternary.Slice (Of2 binary.App (Var 6 sort.List) (Var 5 sort.List)) (Number (pos 3)) (Var 1 sort.Int))) (Var 1 sort.Int) (Of unary.Vi (Of2 binary.Shr (Var 2 sort.Int) (Number (pos 5)))))) (normal (Of3 ternary.Upd Nil (Var 1 sort.Int) (Of unary.Vi (Of2 binary.Shr (Var 2 sort.Int) (Number (pos 5)))))) ≡ false
unfolding computing
pairs_316 = refl

pairs_317 : same (normal (Of2 binary.Mul (Of2 binary.Shl (Var 1 sort.Int) (Number (pos 2))) (Of unary.Unum (Global name_g)))) (normal (Of2 binary.Mul (Of unary.Unum (Global name_g)) (Of2 binary.Shl (Var 1 sort.Int) (Number (pos 2))))) ≡ true
unfolding computing
pairs_317 = refl

pairs_318 : same (normal (Of2 binary.Mul (Of2 binary.Le (Number (pos 3)) (Of2 binary.Rem (Number (pos 3)) (Var 0 sort.Int))) (Of2 binary.Sub (Number (pos 5)) (Of2 binary.Quot (Number (pos 2)) (Number (pos 7)))))) (normal (Of2 binary.Mul (Number (pos 1)) (Of2 binary.Le (Number (pos 3)) (Of2 binary.Rem (Number (pos 3)) (Var 0 sort.Int))))) ≡ false
unfolding computing
pairs_318 = refl

pairs_319 : same (normal (Of2 binary.App (Of unary.Rev (Of unary.Rev Nil)) (Of2 binary.App (Of2 binary.Cons (Of2 binary.Nth (Var 5 sort.List) (Number (pos 18446744073709551616))) (Var 5 sort.List)) (Of2 binary.App (Of2 binary.App Nil (Of2 binary.Cons (Var 4 sort.Val) Nil)) (Of2 binary.Cons Undef (Of2 binary.Cons (Of unary.Vi (Number (pos 0))) Nil)))))) (normal (Of2 binary.App (Of unary.Rev (Of unary.Rev Nil)) (Of2 binary.Cons (Of2 binary.Nth (Var 5 sort.List) (Number (pos 18446744073709551616))) (Of2 binary.App (Var 5 sort.List) (Of2 binary.App Nil (Of2 binary.Cons Undef (Of2 binary.Cons (Of unary.Vi (Number (pos 0))) Nil))))))) ≡ false
unfolding computing
pairs_319 = refl

pairs_320 : same (normal (Of2 binary.Rem (Of2 binary.Bor (Of2 binary.Shr (Of2 binary.Sub (Var 2 sort.Int) (Var 1 sort.Int)) (Of2 binary.Bor (Number (pos 5)) (Number (pos 1)))) (Number (pos 2))) (Number (pos 7)))) (normal (Of2 binary.Rem (Of2 binary.Bor (Of2 binary.Shr (Of2 binary.Sub (Var 2 sort.Int) (Var 1 sort.Int)) (Number (pos 1))) (Number (pos 2))) (Number (pos 7)))) ≡ false
unfolding computing
pairs_320 = refl

pairs_321 : same (normal (Of2 binary.Mul (Of2 binary.Mul (Number (pos 5)) (Number (pos 2))) (Of2 binary.Bor (Number (pos 0)) (Var 1 sort.Int)))) (normal (Of2 binary.Mul (Of2 binary.Bor (Number (pos 0)) (Var 1 sort.Int)) (Of2 binary.Mul (Number (pos 2)) (Number (pos 5))))) ≡ true
unfolding computing
pairs_321 = refl

pairs_322 : same (normal (Of2 binary.Le (Of2 binary.Shl (Of2 binary.Le (Of2 binary.Le (Of2 binary.Sub (Var 2 sort.Int) (Number (pos 1))) (Of2 binary.Eq (Number (pos 3)) (Number (pos 2)))) (Of2 binary.Quot (Of2 binary.Mul (Number (pos 1)) (Number (pos 3))) (Var 1 sort.Int))) (Of2 binary.Mul (Of unary.Num (Of2 binary.Nth Nil (Number (pos 0)))) (Number (pos 2)))) (Of2 binary.Sub (Of2 binary.Sub (Number (pos 2)) (Of2 binary.Mul (Of2 binary.Lt (Var 2 sort.Int) (Number (pos 0))) (Var 1 sort.Int))) (Of2 binary.Bxor (Of unary.Unum (Of2 binary.Off Undef (Number (pos 69)))) (Of2 binary.Add (Of2 binary.Le (Number (pos 7)) (Number (pos 4))) (Of2 binary.Mul (Number (pos 1)) (Number (pos 5)))))))) (normal (Of2 binary.Le (Of2 binary.Shl (Of2 binary.Le (Number (pos 1)) (Of2 binary.Quot (Of2 binary.Mul (Number (pos 3)) (Number (pos 1))) (Var 1 sort.Int))) (Of2 binary.Mul (Of unary.Num (Of2 binary.Nth Nil (Number (pos 0)))) (Number (pos 2)))) (Of2 binary.Sub (Of2 binary.Sub (Number (pos 2)) (Of2 binary.Mul (Of2 binary.Lt (Var 2 sort.Int) (Number (pos 0))) (Var 1 sort.Int))) (Of2 binary.Bxor (Of unary.Unum Undef) (Of2 binary.Add (Of2 binary.Mul (Number (pos 1)) (Number (pos 5))) (Of2 binary.Le (Number (pos 7)) (Number (pos 4)))))))) ≡ false
unfolding computing
pairs_322 = refl

pairs_323 : same (normal (Of unary.Vi (Of2 binary.Band (Number (pos 5)) (Of2 binary.Mul (Of unary.Num (Var 4 sort.Val)) (Of2 binary.Add (Number (pos 5)) (Number (pos 5))))))) (normal (Of unary.Vi (Of2 binary.Band (Number (pos 5)) (Of2 binary.Mul (Of2 binary.Add (Number (pos 5)) (Number (pos 5))) (Of unary.Num (Var 4 sort.Val)))))) ≡ true
unfolding computing
pairs_323 = refl

pairs_324 : same (normal (Of3 ternary.Upd (Of unary.Rev (Of3 ternary.Slice (Of unary.Rev Nil) (Var 0 sort.Int) (Number (pos 17)))) (Var 2 sort.Int) (Of2 binary.Nth (Of2 binary.Cons (Of unary.Vi (Number (pos 5))) (Var 6 sort.List)) (Of2 binary.Rem (Var 2 sort.Int) (Number (pos 5)))))) (normal (Of3 ternary.Upd (Of unary.Rev (Of3 ternary.Slice (Of unary.Rev Nil) (Var 0 sort.Int) (Number (pos 17)))) (Var 2 sort.Int) (Of2 binary.Nth (Of2 binary.Cons (Of unary.Vi (Of2 binary.Add (Number (pos 5)) (Number (pos 0)))) (Var 6 sort.List)) (Of2 binary.Rem (Var 2 sort.Int) (Number (pos 5)))))) ≡ true
unfolding computing
pairs_324 = refl

pairs_325 : same (normal (Of2 binary.App (Of2 binary.App (Of2 binary.Cons (Of2 binary.Off Undef (Number (pos 3))) (Of2 binary.Rep (Global name_g) (Var 0 sort.Int))) (Of2 binary.App (Of2 binary.Rep (Global name_g) (Var 0 sort.Int)) (Of2 binary.Cons (Of unary.Vi (Number (pos 9))) (Of2 binary.Cons (Of unary.Vi (Number (pos 0))) Nil)))) (Of3 ternary.Slice (Of2 binary.App (Of unary.Rev (Of2 binary.Cons (Var 4 sort.Val) (Var 6 sort.List))) (Var 5 sort.List)) (Of2 binary.Rem (Of2 binary.Add (Number (pos 5)) (Number (pos 170141183460469231731687303715884105727))) (Of unary.Num (Global name_g))) (Of2 binary.Rem (Number (pos 7)) (Of2 binary.Le (Number (pos 0)) (Var 1 sort.Int)))))) (normal (Of2 binary.Cons (Of2 binary.Off Undef (Number (pos 3))) (Of2 binary.App (Of2 binary.App (Of2 binary.Rep (Global name_g) (Var 0 sort.Int)) (Of2 binary.App (Of2 binary.Rep (Global name_g) (Var 0 sort.Int)) (Of2 binary.Cons (Of unary.Vi (Of2 binary.Add (Number (pos 9)) (Number (pos 0)))) (Of2 binary.Cons (Of unary.Vi (Number (pos 0))) Nil)))) (Of3 ternary.Slice (Of2 binary.App (Of unary.Rev (Of2 binary.Cons (Var 4 sort.Val) (Var 6 sort.List))) (Var 5 sort.List)) (Of2 binary.Rem (Of2 binary.Sub (Number (pos 5)) (Of2 binary.Sub (Number (pos 0)) (Number (pos 170141183460469231731687303715884105727)))) (Of unary.Num (Global name_g))) (Of2 binary.Rem (Number (pos 7)) (Of2 binary.Le (Number (pos 0)) (Var 1 sort.Int))))))) ≡ false
unfolding computing
pairs_325 = refl

pairs_326 : same (normal (Of2 binary.Lt (Of unary.Num (Of2 binary.Nth (Of2 binary.Cons (Of unary.Vi (Number (pos 7))) (Of3 ternary.Upd (Var 5 sort.List) (Number (pos 0)) (Var 4 sort.Val))) (Of2 binary.Eq (Number (pos 19)) (Number (pos 0))))) (Of unary.Len (Of unary.Rev (Of2 binary.App (Of2 binary.Cons (Of unary.Vi (Number (pos 85070591730234615865843651857942052864))) (Var 5 sort.List)) (Of2 binary.Cons Undef Nil)))))) (normal (Of2 binary.Lt (Of unary.Num (Of2 binary.Nth (Of2 binary.Cons (Of unary.Vi (Of2 binary.Add (Number (pos 7)) (Number (pos 0)))) (Of3 ternary.Upd (Var 5 sort.List) (Number (pos 0)) (Var 4 sort.Val))) (Of2 binary.Eq (Number (pos 19)) (Number (pos 0))))) (Of unary.Len (Of unary.Rev (Of2 binary.Cons (Of unary.Vi (Number (pos 85070591730234615865843651857942052864))) (Of2 binary.App (Var 5 sort.List) (Of2 binary.Cons Undef Nil))))))) ≡ true
unfolding computing
pairs_326 = refl

pairs_327 : same (normal (Of3 ternary.Slice (Of3 ternary.Upd (Of2 binary.Cons Undef (Var 5 sort.List)) (Number (pos 170141183460469231731687303715884105727)) Undef) (Of2 binary.Eq (Number (pos 3)) (Var 1 sort.Int)) (Of2 binary.Lt (Var 1 sort.Int) (Number (pos 20))))) (normal (Of3 ternary.Slice Nil (Of2 binary.Eq (Number (pos 3)) (Var 1 sort.Int)) (Of2 binary.Lt (Var 1 sort.Int) (Number (pos 20))))) ≡ false
unfolding computing
pairs_327 = refl

pairs_328 : same (normal (Of3 ternary.Slice (Of2 binary.Rep (Global name_g) (Var 1 sort.Int)) (Of2 binary.Shl (Var 2 sort.Int) (Number (pos 1))) (Of2 binary.Eq (Of2 binary.Mul (Of2 binary.Sub (Number (pos 1)) (Number (pos 72))) (Of2 binary.Sub (Var 1 sort.Int) (Var 1 sort.Int))) (Of unary.Num (Of unary.Vi (Var 1 sort.Int)))))) (normal (Of3 ternary.Slice (Of2 binary.Rep (Global name_g) (Var 1 sort.Int)) (Of2 binary.Shl (Var 2 sort.Int) (Number (pos 1))) (Of2 binary.Eq (Of2 binary.Sub (Of2 binary.Mul (Of2 binary.Sub (Number (pos 1)) (Number (pos 72))) (Var 1 sort.Int)) (Of2 binary.Mul (Of2 binary.Sub (Number (pos 1)) (Number (pos 72))) (Var 1 sort.Int))) (Of unary.Num (Of unary.Vi (Of2 binary.Add (Var 1 sort.Int) (Number (pos 0)))))))) ≡ true
unfolding computing
pairs_328 = refl

pairs_329 : same (normal (Of unary.Vi (Number (pos 1)))) (normal (Of unary.Vi (Of2 binary.Add (Number (pos 1)) (Number (pos 0))))) ≡ true
unfolding computing
pairs_329 = refl

pairs_330 : same (normal (Of2 binary.App (Of3 ternary.Slice (Of2 binary.Cons (Var 3 sort.Val) (Of2 binary.Rep Undef (Number (pos 8)))) (Of unary.Num Undef) (Of2 binary.Lt (Number (pos 5)) (Number (pos 2)))) (Of2 binary.Cons (Of unary.Vi (Number (pos 96))) (Of2 binary.Cons (Of unary.Vi (Number (pos 1))) (Of2 binary.Cons (Of unary.Vi (Number (pos 3))) (Var 5 sort.List)))))) (normal (Of2 binary.App (Of3 ternary.Slice Nil (Of unary.Num Undef) (Of2 binary.Lt (Number (pos 5)) (Number (pos 2)))) (Of2 binary.Cons (Of unary.Vi (Number (pos 96))) (Of2 binary.Cons (Of unary.Vi (Number (pos 1))) (Of2 binary.Cons (Of unary.Vi (Of2 binary.Add (Number (pos 3)) (Number (pos 0)))) (Var 5 sort.List)))))) ≡ false
unfolding computing
pairs_330 = refl

pairs_331 : same (normal (Of2 binary.App (Of3 ternary.Slice (Of2 binary.Rep (Global name_g) (Number (pos 16))) (Of unary.Unum (Var 3 sort.Val)) (Of2 binary.Bor (Var 1 sort.Int) (Number (pos 5)))) (Of2 binary.Cons (Of unary.Vi (Number (pos 7))) (Of unary.Rev Nil)))) (normal (Of2 binary.App (Of3 ternary.Slice (Of2 binary.Rep (Global name_g) (Number (pos 16))) (Of unary.Unum (Var 3 sort.Val)) (Of2 binary.Bor (Var 1 sort.Int) (Number (pos 5)))) (Of2 binary.Cons (Of unary.Vi (Of2 binary.Add (Number (pos 7)) (Number (pos 0)))) (Of unary.Rev Nil)))) ≡ true
unfolding computing
pairs_331 = refl

pairs_332 : same (normal (Of2 binary.App (Of2 binary.Cons (Of unary.Vi (Number (pos 0))) Nil) (Of3 ternary.Upd Nil (Number (pos 5)) (Var 4 sort.Val)))) (normal (Of2 binary.Cons (Of unary.Vi (Number (pos 0))) (Of2 binary.App Nil (Of3 ternary.Upd Nil (Number (pos 5)) (Var 4 sort.Val))))) ≡ true
unfolding computing
pairs_332 = refl

pairs_333 : same (normal (Of2 binary.App (Of3 ternary.Upd (Of unary.Rev Nil) (Number (pos 7)) (Of unary.Vi (Number (pos 0)))) (Of2 binary.Rep (Var 4 sort.Val) (Number (pos 7))))) (normal (Of2 binary.App Nil (Of2 binary.Rep (Var 4 sort.Val) (Number (pos 7))))) ≡ false
unfolding computing
pairs_333 = refl

pairs_334 : same (normal (Of2 binary.Off Undef (Of2 binary.Shl (Of2 binary.Shr (Var 2 sort.Int) (Of2 binary.Mul (Of2 binary.Rem (Var 0 sort.Int) (Number (pos 93))) (Of unary.Num (Var 4 sort.Val)))) (Of2 binary.Add (Of2 binary.Add (Of2 binary.Mul (Var 1 sort.Int) (Number (pos 2))) (Of2 binary.Bxor (Number (pos 7)) (Number (pos 5)))) (Of2 binary.Shl (Of2 binary.Shl (Number (pos 2)) (Number (pos 55))) (Number (pos 87))))))) (normal (Of2 binary.Off Undef (Of2 binary.Shl (Of2 binary.Shr (Var 2 sort.Int) (Of2 binary.Mul (Of2 binary.Rem (Var 0 sort.Int) (Number (pos 93))) (Of unary.Num (Var 4 sort.Val)))) (Of2 binary.Add (Of2 binary.Bxor (Number (pos 7)) (Number (pos 5))) (Of2 binary.Add (Of2 binary.Mul (Number (pos 2)) (Var 1 sort.Int)) (Of2 binary.Shl (Of2 binary.Shl (Number (pos 2)) (Number (pos 55))) (Number (pos 87)))))))) ≡ true
unfolding computing
pairs_334 = refl

pairs_335 : same (normal (Of unary.Vi (Var 1 sort.Int))) (normal (Of unary.Vi (Of2 binary.Add (Var 1 sort.Int) (Number (pos 0))))) ≡ true
unfolding computing
pairs_335 = refl

pairs_336 : same (normal (Of2 binary.Nth (Of2 binary.App (Of unary.Rev (Of2 binary.App (Of2 binary.App Nil Nil) (Of unary.Rev Nil))) (Of2 binary.Cons (Of2 binary.Nth Nil (Number (pos 3))) Nil)) (Number (pos 0)))) (normal (Of2 binary.Nth (Of2 binary.App (Of unary.Rev (Of2 binary.App (Of2 binary.App Nil Nil) (Of unary.Rev Nil))) Nil) (Number (pos 0)))) ≡ false
unfolding computing
pairs_336 = refl

pairs_337 : same (normal (Of3 ternary.Slice (Of2 binary.Cons (Of2 binary.Off (Global name_g) (Var 2 sort.Int)) (Of3 ternary.Upd (Of3 ternary.Slice Nil (Number (pos 1)) (Var 2 sort.Int)) (Var 0 sort.Int) (Var 3 sort.Val))) (Of unary.Sum (Of2 binary.App (Var 6 sort.List) Nil)) (Of unary.Num (Of2 binary.Off (Var 3 sort.Val) (Number (pos 7)))))) (normal (Of3 ternary.Slice (Of2 binary.Cons (Of2 binary.Off (Global name_g) (Var 2 sort.Int)) (Of3 ternary.Upd Nil (Var 0 sort.Int) (Var 3 sort.Val))) (Of unary.Sum (Of2 binary.App (Var 6 sort.List) Nil)) (Of unary.Num (Of2 binary.Off (Var 3 sort.Val) (Number (pos 7)))))) ≡ false
unfolding computing
pairs_337 = refl

pairs_338 : same (normal (Of unary.Unum (Of unary.Vi (Number (pos 5))))) (normal (Of unary.Unum (Of unary.Vi (Of2 binary.Add (Number (pos 5)) (Number (pos 0)))))) ≡ true
unfolding computing
pairs_338 = refl

pairs_339 : same (normal (Of2 binary.App (Of3 ternary.Slice (Of3 ternary.Upd (Of3 ternary.Slice (Of unary.Rev (Var 5 sort.List)) (Number (pos 86)) (Number (pos 29))) (Number (pos 2)) (Of2 binary.Nth Nil (Var 2 sort.Int))) (Of2 binary.Mul (Of2 binary.Rem (Number (pos 0)) (Number (pos 5))) (Of2 binary.Le (Number (pos 1)) (Var 2 sort.Int))) (Of2 binary.Lt (Of2 binary.Bxor (Number (pos 5)) (Number (pos 0))) (Number (pos 0)))) (Of unary.Rev (Of2 binary.Cons (Of unary.Vi (Number (pos 1))) (Of3 ternary.Upd (Of3 ternary.Upd Nil (Var 0 sort.Int) (Var 4 sort.Val)) (Number (pos 2)) Undef))))) (normal (Of2 binary.App (Of3 ternary.Slice (Of3 ternary.Upd (Of3 ternary.Slice (Of unary.Rev (Var 5 sort.List)) (Number (pos 86)) (Number (pos 29))) (Number (pos 2)) (Of2 binary.Nth Nil (Var 2 sort.Int))) (Of2 binary.Mul (Of2 binary.Le (Number (pos 1)) (Var 2 sort.Int)) (Of2 binary.Rem (Number (pos 0)) (Number (pos 5)))) (Of2 binary.Lt (Of2 binary.Bxor (Number (pos 5)) (Number (pos 0))) (Number (pos 0)))) Nil)) ≡ false
unfolding computing
pairs_339 = refl

pairs_340 : same (normal (Of2 binary.Off (Of unary.Vi (Of2 binary.Lt (Number (pos 3)) (Number (pos 3)))) (Of2 binary.Eq (Of2 binary.Band (Of2 binary.Eq (Of2 binary.Le (Number (pos 5)) (Var 1 sort.Int)) (Of unary.Sum Nil)) (Of2 binary.Shr (Of2 binary.Lt (Number (pos 52)) (Number (pos 85070591730234615865843651857942052864))) (Of unary.Unum (Var 4 sort.Val)))) (Of2 binary.Bor (Var 0 sort.Int) (Of2 binary.Quot (Of2 binary.Quot (Number (pos 3)) (Number (pos 0))) (Of2 binary.Quot (Var 2 sort.Int) (Number (pos 5)))))))) (normal (Of2 binary.Off (Of unary.Vi (Of2 binary.Lt (Number (pos 3)) (Number (pos 3)))) (Of2 binary.Eq (Of2 binary.Band (Of2 binary.Eq (Of2 binary.Le (Number (pos 5)) (Var 1 sort.Int)) (Of unary.Sum Nil)) (Of2 binary.Shr (Of2 binary.Lt (Number (pos 52)) (Number (pos 85070591730234615865843651857942052864))) (Of unary.Unum (Var 4 sort.Val)))) (Of2 binary.Bor (Var 0 sort.Int) (Of2 binary.Quot (Of2 binary.Quot (Number (pos 3)) (Number (pos 0))) (Number (pos 1))))))) ≡ false
unfolding computing
pairs_340 = refl

pairs_341 : same (normal (Of2 binary.Nth (Of2 binary.Cons (Global name_g) (Of3 ternary.Slice (Var 6 sort.List) (Number (pos 5)) (Var 2 sort.Int))) (Of2 binary.Mul (Number (pos 0)) (Number (pos 1))))) (normal (Of2 binary.Nth (Of2 binary.Cons (Global name_g) (Of3 ternary.Slice (Var 6 sort.List) (Number (pos 5)) (Var 2 sort.Int))) (Of2 binary.Mul (Number (pos 1)) (Number (pos 0))))) ≡ true
unfolding computing
pairs_341 = refl

pairs_342 : same (normal (Of2 binary.Cons (Of unary.Vi (Of2 binary.Band (Of2 binary.Band (Number (pos 2)) (Number (pos 2))) (Of2 binary.Shl (Var 0 sort.Int) (Number (pos 2))))) (Of3 ternary.Slice (Of2 binary.App (Of3 ternary.Slice (Of2 binary.Cons (Of unary.Vi (Number (pos 1))) (Var 5 sort.List)) (Number (pos 0)) (Number (pos 16))) (Of2 binary.App (Of3 ternary.Upd (Var 6 sort.List) (Var 2 sort.Int) (Global name_g)) (Of3 ternary.Slice Nil (Number (pos 0)) (Var 1 sort.Int)))) (Number (pos 7)) (Of2 binary.Add (Of unary.Sum (Var 6 sort.List)) (Of2 binary.Lt (Var 2 sort.Int) (Var 2 sort.Int)))))) (normal (Of2 binary.Cons (Of unary.Vi (Of2 binary.Band (Of2 binary.Band (Number (pos 2)) (Number (pos 2))) (Of2 binary.Shl (Var 0 sort.Int) (Number (pos 2))))) (Of3 ternary.Slice (Of2 binary.App (Of3 ternary.Slice (Of2 binary.Cons (Of unary.Vi (Number (pos 1))) (Var 5 sort.List)) (Number (pos 0)) (Number (pos 16))) Nil) (Number (pos 7)) (Of2 binary.Add (Of unary.Sum (Var 6 sort.List)) (Of2 binary.Lt (Var 2 sort.Int) (Var 2 sort.Int)))))) ≡ false
unfolding computing
pairs_342 = refl

pairs_343 : same (normal (Of2 binary.Rep (Of unary.Vi (Of2 binary.Bor (Of unary.Len (Var 5 sort.List)) (Of2 binary.Mul (Var 2 sort.Int) (Number (pos 3))))) (Of2 binary.Shr (Var 0 sort.Int) (Of2 binary.Quot (Of2 binary.Lt (Var 2 sort.Int) (Number (pos 1))) (Of2 binary.Rem (Number (pos 2)) (Number (pos 0))))))) (normal (Of2 binary.Rep (Of unary.Vi (Of2 binary.Bor (Of unary.Len (Var 5 sort.List)) (Of2 binary.Mul (Number (pos 3)) (Var 2 sort.Int)))) (Of2 binary.Shr (Var 0 sort.Int) (Of2 binary.Quot (Of2 binary.Lt (Var 2 sort.Int) (Number (pos 1))) (Of2 binary.Rem (Number (pos 2)) (Number (pos 0))))))) ≡ true
unfolding computing
pairs_343 = refl

pairs_344 : same (normal (Of2 binary.Nth (Of3 ternary.Upd (Of3 ternary.Slice (Var 5 sort.List) (Number (pos 3)) (Var 2 sort.Int)) (Number (pos 49)) (Of unary.Vi (Number (pos 10)))) (Of2 binary.Sub (Number (pos 18446744073709551616)) (Number (pos 99))))) (normal (Of2 binary.Nth (Of3 ternary.Upd (Of3 ternary.Slice (Var 5 sort.List) (Number (pos 3)) (Var 2 sort.Int)) (Number (pos 49)) (Of unary.Vi (Of2 binary.Add (Number (pos 10)) (Number (pos 0))))) (Of2 binary.Sub (Number (pos 18446744073709551616)) (Number (pos 99))))) ≡ true
unfolding computing
pairs_344 = refl

pairs_345 : same (normal (Of2 binary.Cons (Of unary.Vi (Var 2 sort.Int)) (Of2 binary.Cons (Of unary.Vi (Number (pos 1))) (Of2 binary.Rep (Of unary.Vi (Number (pos 3))) (Number (pos 0)))))) (normal (Of2 binary.Cons (Of unary.Vi (Var 2 sort.Int)) (Of2 binary.Cons (Of unary.Vi (Number (pos 1))) (Of2 binary.Rep (Of unary.Vi (Of2 binary.Add (Number (pos 3)) (Number (pos 0)))) (Number (pos 0)))))) ≡ true
unfolding computing
pairs_345 = refl

pairs_346 : same (normal (Of unary.Vi (Of2 binary.Quot (Of unary.Unum (Of unary.Vi (Var 0 sort.Int))) (Of2 binary.Add (Of unary.Num (Of unary.Vi (Number (pos 3)))) (Of2 binary.Bor (Var 0 sort.Int) (Number (pos 1))))))) (normal (Of unary.Vi (Of2 binary.Add (Of2 binary.Quot (Of unary.Unum (Of unary.Vi (Of2 binary.Add (Var 0 sort.Int) (Number (pos 0))))) (Of2 binary.Add (Of2 binary.Bor (Var 0 sort.Int) (Number (pos 1))) (Of unary.Num (Of unary.Vi (Number (pos 3)))))) (Number (pos 0))))) ≡ true
unfolding computing
pairs_346 = refl

pairs_347 : same (normal (Of3 ternary.Slice (Of3 ternary.Upd (Of2 binary.Rep (Of unary.Vi (Var 0 sort.Int)) (Number (pos 5))) (Var 2 sort.Int) Undef) (Of unary.Num (Of2 binary.Nth (Of2 binary.Cons Undef Nil) (Of unary.Num Undef))) (Of2 binary.Lt (Of2 binary.Bor (Of2 binary.Bor (Var 2 sort.Int) (Var 2 sort.Int)) (Number (pos 5))) (Of unary.Sum (Of unary.Rev (Var 5 sort.List)))))) (normal (Of3 ternary.Slice (Of3 ternary.Upd (Of2 binary.Rep (Of unary.Vi (Of2 binary.Add (Var 0 sort.Int) (Number (pos 0)))) (Number (pos 5))) (Var 2 sort.Int) Undef) (Of unary.Num (Of2 binary.Nth (Of2 binary.Cons Undef Nil) (Of unary.Num Undef))) (Of2 binary.Lt (Of2 binary.Bor (Of2 binary.Bor (Var 2 sort.Int) (Var 2 sort.Int)) (Number (pos 5))) (Of unary.Sum (Of unary.Rev (Var 5 sort.List)))))) ≡ true
unfolding computing
pairs_347 = refl

pairs_348 : same (normal (Of unary.Len (Of2 binary.App (Of2 binary.App (Of2 binary.App (Var 6 sort.List) (Var 5 sort.List)) (Of2 binary.App Nil Nil)) (Of2 binary.Rep (Global name_g) (Number (pos 1)))))) (normal (Of unary.Len (Of2 binary.App Nil (Of2 binary.Rep (Global name_g) (Number (pos 1)))))) ≡ false
unfolding computing
pairs_348 = refl

pairs_349 : same (normal (Of2 binary.Nth (Of3 ternary.Slice (Of2 binary.Cons (Global name_g) Nil) (Number (pos 3)) (Number (pos 2))) (Var 0 sort.Int))) (normal (Of2 binary.Nth (Of3 ternary.Slice Nil (Number (pos 3)) (Number (pos 2))) (Var 0 sort.Int))) ≡ false
unfolding computing
pairs_349 = refl

pairs_350 : same (normal (Of2 binary.Cons (Of unary.Vi (Of2 binary.Add (Number (pos 1)) (Var 0 sort.Int))) (Of2 binary.App (Of unary.Rev (Of2 binary.App Nil (Var 5 sort.List))) (Of3 ternary.Upd (Var 5 sort.List) (Of unary.Num (Var 4 sort.Val)) Undef)))) (normal (Of2 binary.Cons (Of unary.Vi (Of2 binary.Sub (Number (pos 1)) (Of2 binary.Sub (Number (pos 0)) (Var 0 sort.Int)))) (Of2 binary.App (Of unary.Rev (Of2 binary.App Nil (Var 5 sort.List))) (Of3 ternary.Upd (Var 5 sort.List) (Of unary.Num (Var 4 sort.Val)) Undef)))) ≡ true
unfolding computing
pairs_350 = refl

pairs_351 : same (normal (Of2 binary.Nth (Of3 ternary.Upd (Of2 binary.Cons (Of unary.Vi (Number (pos 4294967295))) (Of2 binary.Cons (Var 3 sort.Val) (Var 6 sort.List))) (Var 1 sort.Int) (Of unary.Vi (Number (pos 0)))) (Of2 binary.Band (Var 0 sort.Int) (Number (pos 5))))) (normal (Of2 binary.Nth (Of3 ternary.Upd (Of2 binary.Cons (Of unary.Vi (Number (pos 4294967295))) (Of2 binary.Cons (Var 3 sort.Val) (Var 6 sort.List))) (Var 1 sort.Int) (Of unary.Vi (Of2 binary.Add (Number (pos 0)) (Number (pos 0))))) (Of2 binary.Band (Var 0 sort.Int) (Number (pos 5))))) ≡ true
unfolding computing
pairs_351 = refl

pairs_352 : same (normal (Of unary.Vi (Of2 binary.Band (Var 0 sort.Int) (Of2 binary.Add (Number (pos 0)) (Var 2 sort.Int))))) (normal (Of unary.Vi (Of2 binary.Band (Var 0 sort.Int) (Of2 binary.Add (Var 2 sort.Int) (Number (pos 0)))))) ≡ true
unfolding computing
pairs_352 = refl

pairs_353 : same (normal (Of2 binary.Off (Of unary.Vi (Of unary.Len (Var 6 sort.List))) (Of2 binary.Shr (Number (pos 7)) (Of2 binary.Rem (Of unary.Unum (Global name_g)) (Of2 binary.Sub (Number (pos 5)) (Number (pos 3))))))) (normal (Of2 binary.Off (Of unary.Vi (Of2 binary.Add (Of unary.Len (Var 6 sort.List)) (Number (pos 0)))) (Of2 binary.Shr (Number (pos 7)) (Of2 binary.Rem (Of unary.Unum (Global name_g)) (Of2 binary.Sub (Number (pos 5)) (Number (pos 3))))))) ≡ true
unfolding computing
pairs_353 = refl

pairs_354 : same (normal (Of2 binary.Add (Of2 binary.Mul (Of2 binary.Mul (Var 1 sort.Int) (Number (pos 3))) (Of2 binary.Mul (Number (pos 3)) (Var 0 sort.Int))) (Of2 binary.Rem (Of2 binary.Shr (Number (pos 3)) (Number (pos 4294967295))) (Of2 binary.Rem (Var 1 sort.Int) (Number (pos 5)))))) (normal (Of2 binary.Add (Of2 binary.Mul (Var 1 sort.Int) (Of2 binary.Mul (Number (pos 3)) (Of2 binary.Mul (Var 0 sort.Int) (Number (pos 3))))) (Of2 binary.Rem (Number (pos 1)) (Of2 binary.Rem (Var 1 sort.Int) (Number (pos 5)))))) ≡ false
unfolding computing
pairs_354 = refl

pairs_355 : same (normal (Of2 binary.Cons (Of unary.Vi (Of unary.Num (Global name_g))) (Of2 binary.App (Of2 binary.App (Of2 binary.App (Var 5 sort.List) (Var 6 sort.List)) (Of2 binary.Cons (Of unary.Vi (Number (pos 1))) (Var 6 sort.List))) Nil))) (normal (Of2 binary.Cons (Of unary.Vi (Of unary.Num (Global name_g))) (Of2 binary.App (Of2 binary.App (Of2 binary.App (Var 5 sort.List) (Var 6 sort.List)) (Of2 binary.Cons (Of unary.Vi (Of2 binary.Add (Number (pos 1)) (Number (pos 0)))) (Var 6 sort.List))) Nil))) ≡ true
unfolding computing
pairs_355 = refl

pairs_356 : same (normal (Of2 binary.Shr (Of2 binary.Lt (Of2 binary.Shr (Of2 binary.Mul (Of2 binary.Bor (Number (pos 75)) (Number (pos 5))) (Of2 binary.Sub (Number (pos 1)) (Number (pos 7)))) (Of2 binary.Add (Of2 binary.Shr (Number (pos 7)) (Number (pos 0))) (Number (pos 3)))) (Of2 binary.Sub (Of2 binary.Mul (Of unary.Len (Var 6 sort.List)) (Of2 binary.Lt (Number (pos 170141183460469231731687303715884105727)) (Number (pos 7)))) (Of2 binary.Sub (Of2 binary.Lt (Number (pos 0)) (Number (pos 3))) (Of2 binary.Bor (Var 0 sort.Int) (Var 2 sort.Int))))) (Of unary.Unum (Of2 binary.Off (Of unary.Vi (Number (pos 3))) (Of2 binary.Mul (Of2 binary.Bor (Number (pos 25)) (Number (pos 2))) (Of2 binary.Rem (Number (pos 5)) (Var 2 sort.Int))))))) (normal (Of2 binary.Shr (Of2 binary.Lt (Of2 binary.Shr (Of2 binary.Sub (Of2 binary.Mul (Of2 binary.Bor (Number (pos 75)) (Number (pos 5))) (Number (pos 1))) (Of2 binary.Mul (Of2 binary.Bor (Number (pos 75)) (Number (pos 5))) (Number (pos 7)))) (Of2 binary.Add (Of2 binary.Shr (Number (pos 7)) (Number (pos 0))) (Number (pos 3)))) (Of2 binary.Sub (Of2 binary.Mul (Of2 binary.Lt (Number (pos 170141183460469231731687303715884105727)) (Number (pos 7))) (Of unary.Len (Var 6 sort.List))) (Of2 binary.Sub (Of2 binary.Lt (Number (pos 0)) (Number (pos 3))) (Of2 binary.Bor (Var 0 sort.Int) (Var 2 sort.Int))))) (Of unary.Unum (Of2 binary.Off (Of unary.Vi (Number (pos 3))) (Of2 binary.Mul (Of2 binary.Rem (Number (pos 5)) (Var 2 sort.Int)) (Of2 binary.Bor (Number (pos 25)) (Number (pos 2)))))))) ≡ true
unfolding computing
pairs_356 = refl

pairs_357 : same (normal (Of2 binary.Nth (Of3 ternary.Upd (Of2 binary.App (Var 6 sort.List) Nil) (Var 1 sort.Int) (Var 3 sort.Val)) (Of unary.Num (Of unary.Vi (Number (pos 2)))))) (normal (Of2 binary.Nth (Of3 ternary.Upd (Of2 binary.App (Var 6 sort.List) Nil) (Var 1 sort.Int) (Var 3 sort.Val)) (Of unary.Num (Of unary.Vi (Of2 binary.Add (Number (pos 2)) (Number (pos 0))))))) ≡ true
unfolding computing
pairs_357 = refl

pairs_358 : same (normal (Of2 binary.Add (Var 0 sort.Int) (Of2 binary.Shl (Of2 binary.Bxor (Of2 binary.Mul (Of2 binary.Le (Var 1 sort.Int) (Var 2 sort.Int)) (Number (pos 1))) (Number (pos 170141183460469231731687303715884105727))) (Of2 binary.Add (Of2 binary.Shr (Of2 binary.Le (Number (pos 2)) (Number (pos 0))) (Of unary.Num (Of unary.Vi (Number (pos 7))))) (Of2 binary.Add (Of2 binary.Quot (Number (pos 2)) (Number (pos 5))) (Of2 binary.Quot (Var 1 sort.Int) (Var 0 sort.Int))))))) (normal (Of2 binary.Add (Of2 binary.Shl (Of2 binary.Bxor (Of2 binary.Mul (Of2 binary.Le (Var 1 sort.Int) (Var 2 sort.Int)) (Number (pos 1))) (Number (pos 170141183460469231731687303715884105727))) (Of2 binary.Add (Of2 binary.Add (Of2 binary.Quot (Var 1 sort.Int) (Var 0 sort.Int)) (Of2 binary.Quot (Number (pos 2)) (Number (pos 5)))) (Of2 binary.Shr (Of2 binary.Le (Number (pos 2)) (Number (pos 0))) (Of unary.Num (Of unary.Vi (Number (pos 7))))))) (Var 0 sort.Int))) ≡ true
unfolding computing
pairs_358 = refl

pairs_359 : same (normal (Of2 binary.Shl (Of2 binary.Shr (Of2 binary.Mul (Of unary.Unum (Of unary.Vi (Number (pos 2)))) (Of2 binary.Add (Of2 binary.Bxor (Number (pos 2)) (Number (pos 3))) (Of2 binary.Add (Var 1 sort.Int) (Number (pos 2))))) (Of unary.Num (Of unary.Vi (Of2 binary.Quot (Number (pos 0)) (Number (pos 31)))))) (Of2 binary.Shr (Number (pos 7)) (Of2 binary.Mul (Of2 binary.Band (Of unary.Sum Nil) (Of2 binary.Quot (Number (pos 7)) (Number (pos 3)))) (Of2 binary.Shr (Of2 binary.Shl (Number (pos 24)) (Number (pos 3))) (Number (pos 2))))))) (normal (Of2 binary.Shl (Of2 binary.Shr (Of2 binary.Add (Of2 binary.Mul (Of unary.Unum (Of unary.Vi (Number (pos 2)))) (Of2 binary.Sub (Var 1 sort.Int) (Of2 binary.Sub (Number (pos 0)) (Number (pos 2))))) (Of2 binary.Mul (Of unary.Unum (Of unary.Vi (Number (pos 2)))) (Of2 binary.Bxor (Number (pos 2)) (Number (pos 3))))) (Of unary.Num (Of unary.Vi (Of2 binary.Quot (Number (pos 0)) (Number (pos 31)))))) (Of2 binary.Shr (Number (pos 7)) (Of2 binary.Mul (Of2 binary.Band (Of unary.Sum Nil) (Of2 binary.Quot (Number (pos 7)) (Number (pos 3)))) (Of2 binary.Shr (Of2 binary.Shl (Number (pos 24)) (Number (pos 3))) (Number (pos 2))))))) ≡ true
unfolding computing
pairs_359 = refl

pairs_360 : same (normal (Of2 binary.Cons (Of2 binary.Off (Of2 binary.Nth Nil (Number (pos 5))) (Of unary.Unum Undef)) Nil)) (normal (Of2 binary.Cons (Of2 binary.Off Undef (Of unary.Unum Undef)) Nil)) ≡ false
unfolding computing
pairs_360 = refl

pairs_361 : same (normal (Of2 binary.Rep (Of2 binary.Off (Of unary.Vi (Var 0 sort.Int)) (Of2 binary.Le (Var 0 sort.Int) (Var 0 sort.Int))) (Of2 binary.Add (Of2 binary.Quot (Number (pos 50)) (Var 2 sort.Int)) (Of2 binary.Quot (Var 1 sort.Int) (Number (pos 3)))))) (normal Nil) ≡ false
unfolding computing
pairs_361 = refl

pairs_362 : same (normal (Of2 binary.Off (Of2 binary.Nth (Of3 ternary.Slice (Of3 ternary.Slice Nil (Number (pos 5)) (Var 0 sort.Int)) (Number (pos 2)) (Var 2 sort.Int)) (Of2 binary.Quot (Var 1 sort.Int) (Var 0 sort.Int))) (Of2 binary.Quot (Of unary.Sum (Of3 ternary.Upd (Var 6 sort.List) (Number (pos 2)) (Of unary.Vi (Number (pos 23))))) (Of2 binary.Bor (Of2 binary.Add (Number (pos 0)) (Number (pos 3))) (Of2 binary.Quot (Var 2 sort.Int) (Number (pos 1))))))) (normal (Of2 binary.Off Undef (Of2 binary.Quot (Of unary.Sum (Of3 ternary.Upd (Var 6 sort.List) (Number (pos 2)) (Of unary.Vi (Of2 binary.Add (Number (pos 23)) (Number (pos 0)))))) (Of2 binary.Bor (Of2 binary.Sub (Number (pos 0)) (Of2 binary.Sub (Number (pos 0)) (Number (pos 3)))) (Of2 binary.Quot (Var 2 sort.Int) (Number (pos 1))))))) ≡ false
unfolding computing
pairs_362 = refl

pairs_363 : same (normal (Of2 binary.Quot (Of2 binary.Quot (Number (pos 7)) (Of2 binary.Mul (Of unary.Len Nil) (Of2 binary.Bor (Var 1 sort.Int) (Number (pos 43))))) (Of2 binary.Rem (Of2 binary.Bxor (Of2 binary.Mul (Number (pos 0)) (Var 2 sort.Int)) (Of2 binary.Eq (Var 0 sort.Int) (Var 0 sort.Int))) (Of2 binary.Mul (Var 2 sort.Int) (Of2 binary.Rem (Number (pos 0)) (Var 2 sort.Int)))))) (normal (Of2 binary.Quot (Of2 binary.Quot (Number (pos 7)) (Of2 binary.Mul (Of2 binary.Bor (Var 1 sort.Int) (Number (pos 43))) (Of unary.Len Nil))) (Of2 binary.Rem (Of2 binary.Bxor (Of2 binary.Mul (Var 2 sort.Int) (Number (pos 0))) (Of2 binary.Eq (Var 0 sort.Int) (Var 0 sort.Int))) (Of2 binary.Mul (Var 2 sort.Int) (Of2 binary.Rem (Number (pos 0)) (Var 2 sort.Int)))))) ≡ true
unfolding computing
pairs_363 = refl

pairs_364 : same (normal (Of2 binary.App (Of2 binary.Cons (Of2 binary.Nth (Var 6 sort.List) (Number (pos 18))) (Of2 binary.App (Of2 binary.App Nil Nil) (Of2 binary.Rep (Var 4 sort.Val) (Number (pos 0))))) (Of2 binary.Cons (Of2 binary.Off Undef (Var 0 sort.Int)) (Of2 binary.App (Of2 binary.App (Var 5 sort.List) Nil) (Of unary.Rev (Var 5 sort.List)))))) (normal (Of2 binary.Cons (Of2 binary.Nth (Var 6 sort.List) (Number (pos 18))) (Of2 binary.App (Of2 binary.App (Of2 binary.App Nil Nil) (Of2 binary.Rep (Var 4 sort.Val) (Number (pos 0)))) (Of2 binary.Cons (Of2 binary.Off Undef (Var 0 sort.Int)) (Of2 binary.App (Of2 binary.App (Var 5 sort.List) Nil) (Of unary.Rev (Var 5 sort.List))))))) ≡ true
unfolding computing
pairs_364 = refl

pairs_365 : same (normal (Of2 binary.Bxor (Of unary.Sum (Of2 binary.Rep (Of unary.Vi (Number (pos 5))) (Of2 binary.Sub (Number (pos 5)) (Number (pos 14))))) (Of2 binary.Bor (Of unary.Num (Of2 binary.Off (Of2 binary.Off Undef (Number (pos 5))) (Of2 binary.Add (Number (pos 7)) (Var 1 sort.Int)))) (Number (pos 1))))) (normal (Of2 binary.Bxor (Of unary.Sum (Of2 binary.Rep (Of unary.Vi (Number (pos 5))) (Of2 binary.Sub (Number (pos 5)) (Number (pos 14))))) (Of2 binary.Bor (Of unary.Num (Of2 binary.Off (Of2 binary.Off Undef (Number (pos 5))) (Of2 binary.Sub (Number (pos 7)) (Of2 binary.Sub (Number (pos 0)) (Var 1 sort.Int))))) (Number (pos 1))))) ≡ true
unfolding computing
pairs_365 = refl

pairs_366 : same (normal (Of2 binary.Lt (Of2 binary.Band (Number (pos 32)) (Number (pos 1))) (Of2 binary.Rem (Number (pos 4294967296)) (Var 0 sort.Int)))) (normal (Number (pos 1))) ≡ false
unfolding computing
pairs_366 = refl

pairs_367 : same (normal (Of2 binary.Cons (Of unary.Vi (Of2 binary.Add (Number (pos 1)) (Number (pos 5)))) (Of2 binary.Rep (Of unary.Vi (Number (pos 2))) (Of unary.Unum (Of unary.Vi (Number (pos 30))))))) (normal Nil) ≡ false
unfolding computing
pairs_367 = refl

pairs_368 : same (normal (Of2 binary.Off (Of2 binary.Nth (Of2 binary.Rep (Of unary.Vi (Number (pos 4294967296))) (Of2 binary.Rem (Number (pos 2)) (Var 0 sort.Int))) (Of2 binary.Le (Number (pos 1)) (Var 1 sort.Int))) (Of2 binary.Shl (Of2 binary.Sub (Of2 binary.Add (Of unary.Unum (Var 4 sort.Val)) (Number (pos 1))) (Of2 binary.Rem (Number (pos 1)) (Of2 binary.Mul (Number (pos 3)) (Number (pos 7))))) (Of2 binary.Add (Of2 binary.Mul (Of2 binary.Band (Var 0 sort.Int) (Number (pos 1))) (Number (pos 7))) (Of2 binary.Mul (Of2 binary.Bor (Number (pos 3)) (Var 2 sort.Int)) (Number (pos 0))))))) (normal (Of2 binary.Off (Of2 binary.Nth Nil (Of2 binary.Le (Number (pos 1)) (Var 1 sort.Int))) (Of2 binary.Shl (Of2 binary.Sub (Of2 binary.Sub (Of unary.Unum (Var 4 sort.Val)) (Of2 binary.Sub (Number (pos 0)) (Number (pos 1)))) (Of2 binary.Rem (Number (pos 1)) (Of2 binary.Mul (Number (pos 7)) (Number (pos 3))))) (Of2 binary.Sub (Of2 binary.Mul (Number (pos 7)) (Of2 binary.Band (Var 0 sort.Int) (Number (pos 1)))) (Of2 binary.Sub (Number (pos 0)) (Of2 binary.Mul (Of2 binary.Bor (Number (pos 3)) (Var 2 sort.Int)) (Number (pos 0)))))))) ≡ false
unfolding computing
pairs_368 = refl

pairs_369 : same (normal (Of2 binary.Off (Of2 binary.Off (Of unary.Vi (Number (pos 3))) (Of2 binary.Eq (Var 1 sort.Int) (Number (pos 1)))) (Of2 binary.Add (Of2 binary.Mul (Number (pos 2)) (Number (pos 3))) (Of2 binary.Bxor (Number (pos 170141183460469231731687303715884105727)) (Number (pos 0)))))) (normal (Of2 binary.Off (Of2 binary.Off (Of unary.Vi (Of2 binary.Add (Number (pos 3)) (Number (pos 0)))) (Of2 binary.Eq (Var 1 sort.Int) (Number (pos 1)))) (Of2 binary.Add (Number (pos 1)) (Of2 binary.Mul (Number (pos 2)) (Number (pos 3)))))) ≡ false
unfolding computing
pairs_369 = refl

pairs_370 : same (normal (Of2 binary.Cons (Of2 binary.Off (Of unary.Vi (Of2 binary.Bor (Number (pos 1)) (Var 0 sort.Int))) (Number (pos 5))) (Of unary.Rev (Of unary.Rev (Of unary.Rev (Of2 binary.Cons (Of unary.Vi (Number (pos 7))) (Var 6 sort.List))))))) (normal (Of2 binary.Cons (Of2 binary.Off (Of unary.Vi (Of2 binary.Bor (Number (pos 1)) (Var 0 sort.Int))) (Number (pos 5))) (Of unary.Rev (Of unary.Rev Nil)))) ≡ false
unfolding computing
pairs_370 = refl

pairs_371 : same (normal (Of2 binary.Off (Of2 binary.Off (Of unary.Vi (Number (pos 2))) (Of2 binary.Eq (Number (pos 0)) (Number (pos 5)))) (Of unary.Num (Global name_g)))) (normal (Of2 binary.Off Undef (Of unary.Num (Global name_g)))) ≡ false
unfolding computing
pairs_371 = refl

pairs_372 : same (normal (Of2 binary.Off (Of2 binary.Nth (Of2 binary.Cons Undef Nil) (Number (pos 1))) (Of2 binary.Sub (Of2 binary.Bor (Var 2 sort.Int) (Var 0 sort.Int)) (Of unary.Num (Of unary.Vi (Number (pos 80))))))) (normal (Of2 binary.Off (Of2 binary.Nth Nil (Number (pos 1))) (Of2 binary.Sub (Of2 binary.Bor (Var 2 sort.Int) (Var 0 sort.Int)) (Of unary.Num (Of unary.Vi (Number (pos 80))))))) ≡ false
unfolding computing
pairs_372 = refl

pairs_373 : same (normal (Of2 binary.Cons (Of unary.Vi (Number (pos 0))) (Of unary.Rev Nil))) (normal Nil) ≡ false
unfolding computing
pairs_373 = refl

pairs_374 : same (normal (Of2 binary.Nth (Of2 binary.Cons (Global name_g) (Var 6 sort.List)) (Of2 binary.Add (Number (pos 5)) (Number (pos 7))))) (normal Undef) ≡ false
unfolding computing
pairs_374 = refl

pairs_375 : same (normal (Of2 binary.Nth (Of3 ternary.Slice (Of3 ternary.Upd (Var 5 sort.List) (Number (pos 4294967295)) (Var 3 sort.Val)) (Var 1 sort.Int) (Number (pos 7))) (Var 0 sort.Int))) (normal (Of2 binary.Nth Nil (Var 0 sort.Int))) ≡ false
unfolding computing
pairs_375 = refl
