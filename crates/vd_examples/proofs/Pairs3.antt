-- Terms and their normal forms.
use Rattle.std.specs.Prelude.{◌≡◌, refl, pos, negsuc, true, false}
use Rattle.vd_terms.specs.Terms.{Number, Var, Global, Undef, Nil, Of, Of2, Of3}
use Rattle.vd_rules.specs.Computing.{computing}
use Rattle.vd_rules.specs.Normal.{normal}
use Rattle.vd_rules.specs.TermOrder.{same}
use Rattle.vd_terms.specs.declared.operation.Unary.TheVariants as unary
use Rattle.vd_terms.specs.declared.operation.Binary.TheVariants as binary
use Rattle.vd_terms.specs.declared.operation.Ternary.TheVariants as ternary
use Rattle.vd_logic.specs.declared.term.Sort.TheVariants as sort
use Rattle.vd_examples.specs.Names.{name_g}

pairs_201 : same (normal (Of2 binary.Mul (Of unary.Num (Of2 binary.Nth (Of3 ternary.Slice (Var 5 sort.List) (Number (pos 3)) (Number (pos 13))) (Number (pos 3)))) (Var 2 sort.Int))) (normal (Of2 binary.Mul (Var 2 sort.Int) (Of unary.Num (Of2 binary.Nth (Of3 ternary.Slice (Var 5 sort.List) (Number (pos 3)) (Number (pos 13))) (Number (pos 3)))))) ≡ true
unfolding computing
pairs_201 = refl

pairs_202 : normal (Of2 binary.Shr (Of2 binary.Mul (Var 0 sort.Int) (Number (pos 0))) (Of unary.Num (Of unary.Vi (Number (pos 3))))) ≡ (Number (pos 0))
unfolding computing
pairs_202 = refl

pairs_203 : same (normal (Of2 binary.Shr (Of2 binary.Shr (Of unary.Len (Of2 binary.App (Of3 ternary.Slice (Var 5 sort.List) (Var 0 sort.Int) (Number (pos 2))) (Of2 binary.Cons (Of unary.Vi (Number (pos 5))) Nil))) (Of2 binary.Le (Of2 binary.Eq (Of unary.Unum (Var 4 sort.Val)) (Of2 binary.Le (Var 1 sort.Int) (Number (pos 5)))) (Of2 binary.Bor (Of unary.Num (Var 4 sort.Val)) (Of2 binary.Add (Number (pos 1)) (Var 2 sort.Int))))) (Of2 binary.Sub (Of2 binary.Add (Of2 binary.Le (Of unary.Num Undef) (Of unary.Unum (Var 3 sort.Val))) (Of unary.Unum (Of2 binary.Off (Var 4 sort.Val) (Number (pos 0))))) (Of2 binary.Lt (Of2 binary.Quot (Var 0 sort.Int) (Number (pos 1))) (Of unary.Sum (Of2 binary.App (Var 5 sort.List) Nil)))))) (normal (Of2 binary.Shr (Of2 binary.Shr (Of unary.Len (Of2 binary.App (Of3 ternary.Slice (Var 5 sort.List) (Var 0 sort.Int) (Number (pos 2))) (Of2 binary.Cons (Of unary.Vi (Number (pos 5))) Nil))) (Of2 binary.Le (Of2 binary.Eq (Of unary.Unum (Var 4 sort.Val)) (Of2 binary.Le (Var 1 sort.Int) (Number (pos 5)))) (Of2 binary.Bor (Of unary.Num (Var 4 sort.Val)) (Of2 binary.Sub (Number (pos 1)) (Of2 binary.Sub (Number (pos 0)) (Var 2 sort.Int)))))) (Of2 binary.Sub (Of2 binary.Sub (Of2 binary.Le (Of unary.Num Undef) (Of unary.Unum (Var 3 sort.Val))) (Of2 binary.Sub (Number (pos 0)) (Of unary.Unum (Of2 binary.Off (Var 4 sort.Val) (Number (pos 0)))))) (Of2 binary.Lt (Of2 binary.Quot (Var 0 sort.Int) (Number (pos 1))) (Of unary.Sum (Of2 binary.App (Var 5 sort.List) Nil)))))) ≡ true
unfolding computing
pairs_203 = refl

pairs_204 : normal (Of2 binary.Nth (Of2 binary.Rep (Of2 binary.Off Undef (Number (pos 1))) (Number (pos 19))) (Of2 binary.Sub (Number (pos 1)) (Number (pos 5)))) ≡ (Of2 binary.Nth (Of2 binary.Rep (Of2 binary.Off Undef (Number (pos 1))) (Number (pos 19))) (Number (negsuc 3)))
unfolding computing
pairs_204 = refl

pairs_205 : same (normal (Of2 binary.Off (Of unary.Vi (Number (pos 0))) (Of2 binary.Bxor (Of unary.Sum (Of2 binary.Cons Undef (Var 5 sort.List))) (Number (pos 5))))) (normal (Of2 binary.Off (Of unary.Vi (Of2 binary.Add (Number (pos 0)) (Number (pos 0)))) (Of2 binary.Bxor (Of unary.Sum (Of2 binary.Cons Undef (Var 5 sort.List))) (Number (pos 5))))) ≡ true
unfolding computing
pairs_205 = refl

pairs_206 : same (normal (Of unary.Vi (Of2 binary.Bor (Of2 binary.Add (Of2 binary.Add (Of2 binary.Quot (Number (pos 1)) (Var 2 sort.Int)) (Of unary.Sum (Var 6 sort.List))) (Of2 binary.Shr (Of2 binary.Shr (Number (pos 56)) (Var 2 sort.Int)) (Of2 binary.Eq (Var 0 sort.Int) (Number (pos 3))))) (Of unary.Len (Of unary.Rev (Of unary.Rev Nil)))))) (normal (Of unary.Vi (Of2 binary.Add (Of2 binary.Bor (Of2 binary.Add (Of unary.Sum (Var 6 sort.List)) (Of2 binary.Add (Of2 binary.Quot (Number (pos 1)) (Var 2 sort.Int)) (Of2 binary.Shr (Of2 binary.Shr (Number (pos 56)) (Var 2 sort.Int)) (Of2 binary.Eq (Var 0 sort.Int) (Number (pos 3)))))) (Of unary.Len (Of unary.Rev (Of unary.Rev Nil)))) (Number (pos 0))))) ≡ true
unfolding computing
pairs_206 = refl

pairs_207 : same (normal (Of unary.Vi (Of unary.Len (Of2 binary.Cons (Of unary.Vi (Number (pos 2))) (Var 6 sort.List))))) (normal (Of unary.Vi (Of2 binary.Add (Of unary.Len (Of2 binary.Cons (Of unary.Vi (Number (pos 2))) (Var 6 sort.List))) (Number (pos 0))))) ≡ true
unfolding computing
pairs_207 = refl

pairs_208 : same (normal (Of unary.Vi (Of2 binary.Sub (Of2 binary.Rem (Var 0 sort.Int) (Number (pos 1))) (Number (pos 7))))) (normal (Of unary.Vi (Of2 binary.Add (Of2 binary.Sub (Of2 binary.Rem (Var 0 sort.Int) (Number (pos 1))) (Number (pos 7))) (Number (pos 0))))) ≡ true
unfolding computing
pairs_208 = refl

pairs_209 : same (normal (Of2 binary.Nth (Of unary.Rev (Of2 binary.Cons (Of2 binary.Nth (Var 6 sort.List) (Number (pos 0))) (Of2 binary.Cons Undef (Of3 ternary.Upd Nil (Number (pos 0)) (Of unary.Vi (Number (pos 3))))))) (Of2 binary.Mul (Number (pos 7)) (Number (pos 1))))) (normal (Of2 binary.Nth (Of unary.Rev (Of2 binary.Cons (Of2 binary.Nth (Var 6 sort.List) (Number (pos 0))) (Of2 binary.Cons Undef (Of3 ternary.Upd Nil (Number (pos 0)) (Of unary.Vi (Of2 binary.Add (Number (pos 3)) (Number (pos 0)))))))) (Of2 binary.Mul (Number (pos 7)) (Number (pos 1))))) ≡ true
unfolding computing
pairs_209 = refl

pairs_210 : same (normal (Of2 binary.Sub (Of2 binary.Bxor (Var 2 sort.Int) (Of unary.Num (Of unary.Vi (Of2 binary.Band (Number (pos 5)) (Var 0 sort.Int))))) (Of2 binary.Shl (Var 1 sort.Int) (Of2 binary.Mul (Of2 binary.Sub (Of2 binary.Shl (Var 1 sort.Int) (Var 1 sort.Int)) (Number (pos 2))) (Of2 binary.Shl (Of2 binary.Rem (Number (pos 5)) (Var 0 sort.Int)) (Of2 binary.Quot (Var 1 sort.Int) (Number (pos 0)))))))) (normal (Of2 binary.Sub (Of2 binary.Bxor (Var 2 sort.Int) (Of unary.Num (Of unary.Vi (Of2 binary.Add (Of2 binary.Band (Number (pos 5)) (Var 0 sort.Int)) (Number (pos 0)))))) (Of2 binary.Shl (Var 1 sort.Int) (Of2 binary.Mul (Of2 binary.Shl (Of2 binary.Rem (Number (pos 5)) (Var 0 sort.Int)) (Of2 binary.Quot (Var 1 sort.Int) (Number (pos 0)))) (Of2 binary.Sub (Of2 binary.Shl (Var 1 sort.Int) (Var 1 sort.Int)) (Number (pos 2))))))) ≡ true
unfolding computing
pairs_210 = refl

pairs_211 : same (normal (Of unary.Unum (Of2 binary.Off (Of2 binary.Off (Of unary.Vi (Var 0 sort.Int)) (Of2 binary.Add (Number (pos 170141183460469231731687303715884105727)) (Number (pos 0)))) (Of2 binary.Shr (Of2 binary.Lt (Var 2 sort.Int) (Var 0 sort.Int)) (Of unary.Len Nil))))) (normal (Of unary.Unum (Of2 binary.Off (Of2 binary.Off (Of unary.Vi (Of2 binary.Add (Var 0 sort.Int) (Number (pos 0)))) (Of2 binary.Add (Number (pos 0)) (Number (pos 170141183460469231731687303715884105727)))) (Of2 binary.Shr (Of2 binary.Lt (Var 2 sort.Int) (Var 0 sort.Int)) (Of unary.Len Nil))))) ≡ true
unfolding computing
pairs_211 = refl

pairs_212 : same (normal (Of unary.Vi (Of2 binary.Lt (Var 1 sort.Int) (Var 2 sort.Int)))) (normal (Of unary.Vi (Of2 binary.Add (Of2 binary.Lt (Var 1 sort.Int) (Var 2 sort.Int)) (Number (pos 0))))) ≡ true
unfolding computing
pairs_212 = refl

pairs_213 : same (normal (Of2 binary.Bor (Of2 binary.Shl (Of2 binary.Shr (Number (pos 5)) (Of2 binary.Eq (Of2 binary.Lt (Number (pos 5)) (Number (pos 1))) (Of2 binary.Shr (Var 1 sort.Int) (Number (pos 97))))) (Of2 binary.Shl (Of2 binary.Mul (Number (pos 3)) (Number (pos 7))) (Of2 binary.Bor (Of2 binary.Le (Number (pos 16)) (Number (pos 1))) (Of2 binary.Add (Number (pos 7)) (Var 2 sort.Int))))) (Number (pos 5)))) (normal (Of2 binary.Bor (Of2 binary.Shl (Of2 binary.Shr (Number (pos 5)) (Of2 binary.Eq (Of2 binary.Lt (Number (pos 5)) (Number (pos 1))) (Of2 binary.Shr (Var 1 sort.Int) (Number (pos 97))))) (Of2 binary.Shl (Of2 binary.Mul (Number (pos 3)) (Number (pos 7))) (Of2 binary.Bor (Of2 binary.Le (Number (pos 16)) (Number (pos 1))) (Of2 binary.Add (Var 2 sort.Int) (Number (pos 7)))))) (Number (pos 5)))) ≡ true
unfolding computing
pairs_213 = refl

pairs_214 : same (normal (Of2 binary.Off (Of unary.Vi (Var 0 sort.Int)) (Of2 binary.Mul (Of2 binary.Add (Number (pos 1)) (Number (pos 3))) (Of2 binary.Add (Var 0 sort.Int) (Number (pos 3)))))) (normal (Of2 binary.Off (Of unary.Vi (Var 0 sort.Int)) (Of2 binary.Mul (Of2 binary.Add (Number (pos 3)) (Var 0 sort.Int)) (Of2 binary.Sub (Number (pos 1)) (Of2 binary.Sub (Number (pos 0)) (Number (pos 3))))))) ≡ true
unfolding computing
pairs_214 = refl

pairs_215 : same (normal (Of2 binary.Add (Var 1 sort.Int) (Of2 binary.Eq (Of2 binary.Bor (Of2 binary.Add (Of2 binary.Quot (Number (pos 1)) (Var 0 sort.Int)) (Of2 binary.Add (Number (pos 1)) (Number (pos 1)))) (Number (pos 53))) (Of unary.Unum (Of2 binary.Nth (Of unary.Rev Nil) (Of2 binary.Lt (Number (pos 7)) (Number (pos 7)))))))) (normal (Of2 binary.Add (Of2 binary.Eq (Of2 binary.Bor (Of2 binary.Add (Of2 binary.Quot (Number (pos 1)) (Var 0 sort.Int)) (Of2 binary.Add (Number (pos 1)) (Number (pos 1)))) (Number (pos 53))) (Of unary.Unum (Of2 binary.Nth (Of unary.Rev Nil) (Of2 binary.Lt (Number (pos 7)) (Number (pos 7)))))) (Var 1 sort.Int))) ≡ true
unfolding computing
pairs_215 = refl

pairs_216 : same (normal (Of unary.Vi (Of2 binary.Sub (Number (pos 5)) (Of2 binary.Rem (Of2 binary.Quot (Of2 binary.Eq (Number (pos 7)) (Var 2 sort.Int)) (Of unary.Len (Var 6 sort.List))) (Of2 binary.Add (Of2 binary.Bxor (Number (pos 1)) (Var 2 sort.Int)) (Of unary.Num (Of unary.Vi (Number (pos 3))))))))) (normal (Of unary.Vi (Of2 binary.Sub (Number (pos 5)) (Of2 binary.Rem (Of2 binary.Quot (Of2 binary.Eq (Number (pos 7)) (Var 2 sort.Int)) (Of unary.Len (Var 6 sort.List))) (Of2 binary.Add (Of unary.Num (Of unary.Vi (Number (pos 3)))) (Of2 binary.Bxor (Number (pos 1)) (Var 2 sort.Int))))))) ≡ true
unfolding computing
pairs_216 = refl

pairs_217 : same (normal (Of2 binary.App (Of2 binary.Cons (Of2 binary.Nth (Of2 binary.Rep (Global name_g) (Number (pos 91))) (Of unary.Sum Nil)) (Of unary.Rev (Of2 binary.Cons (Var 4 sort.Val) (Var 5 sort.List)))) (Of3 ternary.Slice (Of3 ternary.Upd (Of2 binary.Cons (Of unary.Vi (Number (pos 2))) (Of unary.Rev (Var 5 sort.List))) (Number (pos 1)) (Of2 binary.Off Undef (Number (pos 2)))) (Number (pos 92)) (Of2 binary.Sub (Number (pos 7)) (Of unary.Unum (Global name_g)))))) (normal (Of2 binary.Cons (Of2 binary.Nth (Of2 binary.Rep (Global name_g) (Number (pos 91))) (Of unary.Sum Nil)) (Of2 binary.App (Of unary.Rev (Of2 binary.Cons (Var 4 sort.Val) (Var 5 sort.List))) (Of3 ternary.Slice (Of3 ternary.Upd (Of2 binary.Cons (Of unary.Vi (Number (pos 2))) (Of unary.Rev (Var 5 sort.List))) (Number (pos 1)) (Of2 binary.Off Undef (Number (pos 2)))) (Number (pos 92)) (Of2 binary.Sub (Number (pos 7)) (Of unary.Unum (Global name_g))))))) ≡ true
unfolding computing
pairs_217 = refl

pairs_218 : same (normal (Of3 ternary.Slice (Of2 binary.Cons Undef (Of3 ternary.Upd (Of2 binary.Cons Undef (Of2 binary.Cons (Var 3 sort.Val) (Var 5 sort.List))) (Of2 binary.Add (Of2 binary.Band (Number (pos 3)) (Number (pos 3))) (Of2 binary.Mul (Var 2 sort.Int) (Number (pos 4294967296)))) (Of2 binary.Off Undef (Number (pos 0))))) (Of unary.Unum (Of2 binary.Off (Of2 binary.Off (Var 3 sort.Val) (Number (pos 1))) (Var 1 sort.Int))) (Number (pos 3)))) (normal (Of3 ternary.Slice (Of2 binary.Cons Undef (Of3 ternary.Upd (Of2 binary.Cons Undef (Of2 binary.Cons (Var 3 sort.Val) (Var 5 sort.List))) (Of2 binary.Add (Of2 binary.Mul (Number (pos 4294967296)) (Var 2 sort.Int)) (Of2 binary.Band (Number (pos 3)) (Number (pos 3)))) (Of2 binary.Off Undef (Number (pos 0))))) (Of unary.Unum (Of2 binary.Off (Of2 binary.Off (Var 3 sort.Val) (Number (pos 1))) (Var 1 sort.Int))) (Number (pos 3)))) ≡ true
unfolding computing
pairs_218 = refl

pairs_219 : same (normal (Of3 ternary.Upd (Of2 binary.Cons (Global name_g) (Of3 ternary.Upd Nil (Var 2 sort.Int) (Global name_g))) (Of2 binary.Band (Of unary.Sum (Var 6 sort.List)) (Number (pos 2))) (Of unary.Vi (Number (pos 0))))) (normal (Of3 ternary.Upd (Of2 binary.Cons (Global name_g) (Of3 ternary.Upd Nil (Var 2 sort.Int) (Global name_g))) (Of2 binary.Band (Of unary.Sum (Var 6 sort.List)) (Number (pos 2))) (Of unary.Vi (Of2 binary.Add (Number (pos 0)) (Number (pos 0)))))) ≡ true
unfolding computing
pairs_219 = refl

pairs_220 : same (normal (Of2 binary.Bor (Of unary.Sum (Of2 binary.App (Of2 binary.Cons (Global name_g) Nil) (Of2 binary.Cons (Var 4 sort.Val) (Var 5 sort.List)))) (Of unary.Unum (Of unary.Vi (Of2 binary.Mul (Number (pos 75)) (Number (pos 94))))))) (normal (Of2 binary.Bor (Of unary.Sum (Of2 binary.Cons (Global name_g) (Of2 binary.App Nil (Of2 binary.Cons (Var 4 sort.Val) (Var 5 sort.List))))) (Of unary.Unum (Of unary.Vi (Of2 binary.Mul (Number (pos 75)) (Number (pos 94))))))) ≡ true
unfolding computing
pairs_220 = refl

pairs_221 : same (normal (Of2 binary.Quot (Of2 binary.Quot (Of2 binary.Mul (Of2 binary.Rem (Number (pos 1)) (Number (pos 1))) (Of2 binary.Bor (Number (pos 1)) (Var 1 sort.Int))) (Of2 binary.Shr (Of unary.Sum (Var 6 sort.List)) (Of unary.Unum (Global name_g)))) (Of unary.Num Undef))) (normal (Of2 binary.Quot (Of2 binary.Quot (Of2 binary.Mul (Of2 binary.Bor (Number (pos 1)) (Var 1 sort.Int)) (Of2 binary.Rem (Number (pos 1)) (Number (pos 1)))) (Of2 binary.Shr (Of unary.Sum (Var 6 sort.List)) (Of unary.Unum (Global name_g)))) (Of unary.Num Undef))) ≡ true
unfolding computing
pairs_221 = refl

pairs_222 : same (normal (Of unary.Vi (Of unary.Num (Of unary.Vi (Number (pos 1)))))) (normal (Of unary.Vi (Of2 binary.Add (Of unary.Num (Of unary.Vi (Number (pos 1)))) (Number (pos 0))))) ≡ true
unfolding computing
pairs_222 = refl

pairs_223 : same (normal (Of2 binary.Cons (Of2 binary.Off (Global name_g) (Of2 binary.Eq (Var 2 sort.Int) (Number (pos 50)))) (Of2 binary.App (Of2 binary.Cons (Global name_g) (Of3 ternary.Slice (Var 6 sort.List) (Number (pos 5)) (Var 0 sort.Int))) (Var 5 sort.List)))) (normal (Of2 binary.Cons (Of2 binary.Off (Global name_g) (Of2 binary.Eq (Var 2 sort.Int) (Number (pos 50)))) (Of2 binary.Cons (Global name_g) (Of2 binary.App Nil (Var 5 sort.List))))) ≡ false
unfolding computing
pairs_223 = refl

pairs_224 : same (normal (Of2 binary.Shl (Of2 binary.Shl (Of unary.Len (Of2 binary.App (Var 5 sort.List) Nil)) (Of unary.Unum (Of2 binary.Off (Of unary.Vi (Number (pos 5))) (Number (pos 5))))) (Of2 binary.Eq (Of2 binary.Sub (Number (pos 23)) (Of2 binary.Sub (Var 0 sort.Int) (Var 1 sort.Int))) (Of unary.Unum (Of unary.Vi (Var 1 sort.Int)))))) (normal (Of2 binary.Shl (Of2 binary.Shl (Of unary.Len (Of2 binary.App (Var 5 sort.List) Nil)) (Of unary.Unum (Of2 binary.Off (Of unary.Vi (Of2 binary.Add (Number (pos 5)) (Number (pos 0)))) (Number (pos 5))))) (Of2 binary.Eq (Of2 binary.Sub (Number (pos 23)) (Of2 binary.Sub (Var 0 sort.Int) (Var 1 sort.Int))) (Of unary.Unum (Of unary.Vi (Of2 binary.Add (Var 1 sort.Int) (Number (pos 0)))))))) ≡ true
unfolding computing
pairs_224 = refl

pairs_225 : same (normal (Of unary.Sum (Of2 binary.Cons (Of2 binary.Off (Global name_g) (Number (pos 2))) (Of2 binary.App (Of2 binary.Cons (Var 4 sort.Val) (Var 6 sort.List)) (Of3 ternary.Slice (Var 5 sort.List) (Number (pos 3)) (Number (pos 2))))))) (normal (Of unary.Sum (Of2 binary.Cons (Of2 binary.Off (Global name_g) (Number (pos 2))) (Of2 binary.Cons (Var 4 sort.Val) (Of2 binary.App (Var 6 sort.List) (Of3 ternary.Slice (Var 5 sort.List) (Number (pos 3)) (Number (pos 2)))))))) ≡ true
unfolding computing
pairs_225 = refl

pairs_226 : same (normal (Of unary.Unum (Of2 binary.Nth (Of2 binary.Cons (Of unary.Vi (Number (pos 62))) (Of2 binary.Cons (Of unary.Vi (Number (pos 2))) Nil)) (Of unary.Unum Undef)))) (normal (Of unary.Unum (Of2 binary.Nth (Of2 binary.Cons (Of unary.Vi (Of2 binary.Add (Number (pos 62)) (Number (pos 0)))) (Of2 binary.Cons (Of unary.Vi (Of2 binary.Add (Number (pos 2)) (Number (pos 0)))) Nil)) (Of unary.Unum Undef)))) ≡ true
unfolding computing
pairs_226 = refl

pairs_227 : same (normal (Of2 binary.Cons (Of unary.Vi (Of2 binary.Band (Of2 binary.Mul (Number (pos 7)) (Var 1 sort.Int)) (Of2 binary.Shr (Number (pos 7)) (Number (pos 1))))) (Of2 binary.App (Of3 ternary.Slice (Of3 ternary.Upd (Of unary.Rev (Var 6 sort.List)) (Var 0 sort.Int) (Of unary.Vi (Number (pos 2)))) (Var 2 sort.Int) (Var 1 sort.Int)) (Of2 binary.Cons (Of unary.Vi (Var 1 sort.Int)) (Of2 binary.App (Of3 ternary.Slice Nil (Number (pos 0)) (Number (pos 0))) (Of2 binary.App Nil Nil)))))) (normal (Of2 binary.Cons (Of unary.Vi (Of2 binary.Band (Of2 binary.Mul (Var 1 sort.Int) (Number (pos 7))) (Of2 binary.Shr (Number (pos 7)) (Number (pos 1))))) (Of2 binary.App Nil (Of2 binary.Cons (Of unary.Vi (Of2 binary.Add (Var 1 sort.Int) (Number (pos 0)))) (Of2 binary.App (Of3 ternary.Slice Nil (Number (pos 0)) (Number (pos 0))) (Of2 binary.App Nil Nil)))))) ≡ false
unfolding computing
pairs_227 = refl

pairs_228 : same (normal (Of unary.Rev (Of2 binary.Cons (Of2 binary.Nth (Of2 binary.Cons (Of unary.Vi (Number (pos 0))) Nil) (Of unary.Num (Global name_g))) (Of3 ternary.Upd (Of3 ternary.Upd (Of2 binary.App Nil Nil) (Of2 binary.Shl (Number (pos 5)) (Number (pos 1))) (Of unary.Vi (Number (pos 7)))) (Number (pos 2)) (Of2 binary.Off (Of unary.Vi (Number (pos 49))) (Var 1 sort.Int)))))) (normal (Of unary.Rev (Of2 binary.Cons (Of2 binary.Nth (Of2 binary.Cons (Of unary.Vi (Number (pos 0))) Nil) (Number (pos 1))) (Of3 ternary.Upd (Of3 ternary.Upd (Of2 binary.App Nil Nil) (Of2 binary.Shl (Number (pos 5)) (Number (pos 1))) (Of unary.Vi (Of2 binary.Add (Number (pos 7)) (Number (pos 0))))) (Number (pos 2)) (Of2 binary.Off (Of unary.Vi (Number (pos 49))) (Var 1 sort.Int)))))) ≡ false
unfolding computing
pairs_228 = refl

pairs_229 : same (normal (Of2 binary.Cons (Of unary.Vi (Of2 binary.Mul (Number (pos 7)) (Var 0 sort.Int))) (Of3 ternary.Slice (Var 6 sort.List) (Of unary.Len Nil) (Of2 binary.Sub (Number (pos 3)) (Var 1 sort.Int))))) (normal (Of2 binary.Cons (Of unary.Vi (Of2 binary.Add (Of2 binary.Mul (Var 0 sort.Int) (Number (pos 7))) (Number (pos 0)))) (Of3 ternary.Slice (Var 6 sort.List) (Number (pos 1)) (Of2 binary.Sub (Number (pos 3)) (Var 1 sort.Int))))) ≡ false
unfolding computing
pairs_229 = refl

pairs_230 : same (normal (Of2 binary.Off (Of2 binary.Nth Nil (Number (pos 5))) (Of2 binary.Add (Var 2 sort.Int) (Number (pos 7))))) (normal (Of2 binary.Off (Of2 binary.Nth Nil (Number (pos 5))) (Of2 binary.Add (Number (pos 7)) (Var 2 sort.Int)))) ≡ true
unfolding computing
pairs_230 = refl

pairs_231 : same (normal (Of2 binary.Mul (Of2 binary.Add (Var 2 sort.Int) (Of2 binary.Mul (Of2 binary.Add (Number (pos 1)) (Number (pos 2))) (Of2 binary.Add (Number (pos 35)) (Number (pos 2147483648))))) (Of2 binary.Lt (Of2 binary.Bxor (Var 1 sort.Int) (Of unary.Num (Of unary.Vi (Number (pos 3))))) (Of2 binary.Bor (Of2 binary.Sub (Number (pos 2)) (Number (pos 3))) (Of unary.Sum Nil))))) (normal (Of2 binary.Mul (Of2 binary.Add (Of2 binary.Mul (Of2 binary.Add (Number (pos 35)) (Number (pos 2147483648))) (Of2 binary.Add (Number (pos 2)) (Number (pos 1)))) (Var 2 sort.Int)) (Of2 binary.Lt (Of2 binary.Bxor (Var 1 sort.Int) (Of unary.Num (Of unary.Vi (Number (pos 3))))) (Of2 binary.Bor (Of2 binary.Sub (Number (pos 2)) (Number (pos 3))) (Of unary.Sum Nil))))) ≡ true
unfolding computing
pairs_231 = refl

pairs_232 : same (normal (Of2 binary.Nth (Of2 binary.Cons (Of unary.Vi (Of2 binary.Shr (Number (pos 2)) (Number (pos 7)))) (Of2 binary.Rep (Of unary.Vi (Number (pos 32))) (Of2 binary.Lt (Number (pos 1)) (Number (pos 7))))) (Of2 binary.Sub (Number (pos 2)) (Number (pos 2))))) (normal (Of2 binary.Nth (Of2 binary.Cons (Of unary.Vi (Of2 binary.Shr (Number (pos 2)) (Number (pos 7)))) (Of2 binary.Rep (Of unary.Vi (Number (pos 32))) (Of2 binary.Lt (Number (pos 1)) (Number (pos 7))))) (Number (pos 1)))) ≡ false
unfolding computing
pairs_232 = refl

pairs_233 : same (normal (Of unary.Vi (Of unary.Sum (Var 6 sort.List)))) (normal (Of unary.Vi (Of2 binary.Add (Of unary.Sum (Var 6 sort.List)) (Number (pos 0))))) ≡ true
unfolding computing
pairs_233 = refl

pairs_234 : same (normal (Of2 binary.Off (Of2 binary.Off Undef (Of2 binary.Shr (Number (pos 0)) (Number (pos 5)))) (Of2 binary.Lt (Var 0 sort.Int) (Of2 binary.Mul (Var 2 sort.Int) (Number (pos 3)))))) (normal (Of2 binary.Off (Of2 binary.Off Undef (Number (pos 1))) (Of2 binary.Lt (Var 0 sort.Int) (Of2 binary.Mul (Number (pos 3)) (Var 2 sort.Int))))) ≡ false
unfolding computing
pairs_234 = refl

pairs_235 : same (normal (Of unary.Vi (Of2 binary.Add (Of unary.Len (Of2 binary.Cons (Of unary.Vi (Number (pos 5))) (Var 5 sort.List))) (Of2 binary.Lt (Of2 binary.Lt (Number (pos 2)) (Var 1 sort.Int)) (Of2 binary.Sub (Number (pos 3)) (Number (pos 7))))))) (normal (Of unary.Vi (Of2 binary.Add (Of2 binary.Lt (Of2 binary.Lt (Number (pos 2)) (Var 1 sort.Int)) (Of2 binary.Sub (Number (pos 3)) (Number (pos 7)))) (Of unary.Len (Of2 binary.Cons (Of unary.Vi (Of2 binary.Add (Number (pos 5)) (Number (pos 0)))) (Var 5 sort.List)))))) ≡ true
unfolding computing
pairs_235 = refl

pairs_236 : same (normal (Of2 binary.Shr (Number (pos 3)) (Of2 binary.Sub (Of2 binary.Add (Of unary.Unum (Of2 binary.Off (Var 4 sort.Val) (Var 2 sort.Int))) (Of2 binary.Le (Of2 binary.Eq (Var 2 sort.Int) (Number (pos 4294967296))) (Of2 binary.Sub (Number (pos 1)) (Var 0 sort.Int)))) (Of2 binary.Bor (Of unary.Sum (Of3 ternary.Upd (Var 5 sort.List) (Var 1 sort.Int) (Of unary.Vi (Number (pos 0))))) (Of2 binary.Shr (Of2 binary.Rem (Number (pos 3)) (Var 1 sort.Int)) (Of2 binary.Bxor (Number (pos 5)) (Number (pos 18446744073709551616)))))))) (normal (Of2 binary.Shr (Number (pos 3)) (Of2 binary.Sub (Of2 binary.Sub (Of unary.Unum (Of2 binary.Off (Var 4 sort.Val) (Var 2 sort.Int))) (Of2 binary.Sub (Number (pos 0)) (Of2 binary.Le (Of2 binary.Eq (Var 2 sort.Int) (Number (pos 4294967296))) (Of2 binary.Sub (Number (pos 1)) (Var 0 sort.Int))))) (Of2 binary.Bor (Of unary.Sum (Of3 ternary.Upd (Var 5 sort.List) (Var 1 sort.Int) (Of unary.Vi (Number (pos 0))))) (Of2 binary.Shr (Of2 binary.Rem (Number (pos 3)) (Var 1 sort.Int)) (Of2 binary.Bxor (Number (pos 5)) (Number (pos 18446744073709551616)))))))) ≡ true
unfolding computing
pairs_236 = refl

pairs_237 : same (normal (Of3 ternary.Slice (Of3 ternary.Slice (Of unary.Rev (Of unary.Rev (Of2 binary.Rep Undef (Var 0 sort.Int)))) (Of unary.Num (Of unary.Vi (Number (pos 5)))) (Of unary.Len (Of3 ternary.Slice Nil (Number (pos 1)) (Number (pos 3))))) (Of2 binary.Rem (Number (pos 7)) (Of2 binary.Mul (Number (pos 2)) (Of unary.Num (Of unary.Vi (Number (pos 0)))))) (Of unary.Num (Of2 binary.Off (Of unary.Vi (Var 1 sort.Int)) (Of2 binary.Sub (Var 0 sort.Int) (Var 1 sort.Int)))))) (normal (Of3 ternary.Slice (Of3 ternary.Slice (Of unary.Rev (Of unary.Rev (Of2 binary.Rep Undef (Var 0 sort.Int)))) (Of unary.Num (Of unary.Vi (Number (pos 5)))) (Of unary.Len (Of3 ternary.Slice Nil (Number (pos 1)) (Number (pos 3))))) (Of2 binary.Rem (Number (pos 7)) (Of2 binary.Mul (Of unary.Num (Of unary.Vi (Of2 binary.Add (Number (pos 0)) (Number (pos 0))))) (Number (pos 2)))) (Of unary.Num (Of2 binary.Off (Of unary.Vi (Of2 binary.Add (Var 1 sort.Int) (Number (pos 0)))) (Of2 binary.Sub (Var 0 sort.Int) (Var 1 sort.Int)))))) ≡ true
unfolding computing
pairs_237 = refl

pairs_238 : same (normal (Of2 binary.Rep (Of2 binary.Off Undef (Var 2 sort.Int)) (Of2 binary.Shr (Number (pos 5)) (Number (pos 0))))) (normal (Of2 binary.Rep (Of2 binary.Off Undef (Var 2 sort.Int)) (Number (pos 1)))) ≡ false
unfolding computing
pairs_238 = refl

pairs_239 : same (normal (Of2 binary.Cons (Of2 binary.Nth (Of2 binary.App (Var 5 sort.List) Nil) (Of2 binary.Add (Number (pos 2)) (Number (pos 16)))) (Of3 ternary.Slice (Of2 binary.App (Of unary.Rev (Var 6 sort.List)) (Of unary.Rev (Var 5 sort.List))) (Of unary.Len Nil) (Number (pos 35))))) (normal (Of2 binary.Cons (Of2 binary.Nth (Of2 binary.App (Var 5 sort.List) Nil) (Of2 binary.Add (Number (pos 16)) (Number (pos 2)))) (Of3 ternary.Slice (Of2 binary.App (Of unary.Rev (Var 6 sort.List)) (Of unary.Rev (Var 5 sort.List))) (Of unary.Len Nil) (Number (pos 35))))) ≡ true
unfolding computing
pairs_239 = refl

pairs_240 : same (normal (Of2 binary.Add (Of2 binary.Band (Of unary.Unum (Of2 binary.Nth (Of2 binary.App (Var 5 sort.List) Nil) (Var 1 sort.Int))) (Number (pos 1))) (Of2 binary.Rem (Of2 binary.Band (Of2 binary.Bor (Of2 binary.Sub (Var 0 sort.Int) (Number (pos 0))) (Of unary.Num (Var 4 sort.Val))) (Of2 binary.Bor (Of2 binary.Add (Number (pos 1)) (Var 2 sort.Int)) (Of unary.Num (Of unary.Vi (Number (pos 5)))))) (Number (pos 7))))) (normal (Of2 binary.Add (Number (pos 1)) (Of2 binary.Rem (Number (pos 1)) (Number (pos 7))))) ≡ false
unfolding computing
pairs_240 = refl

pairs_241 : same (normal (Of2 binary.Mul (Of2 binary.Sub (Of2 binary.Quot (Number (pos 2)) (Number (pos 3))) (Of unary.Len Nil)) (Of2 binary.Add (Of2 binary.Sub (Number (pos 1)) (Var 2 sort.Int)) (Of2 binary.Bor (Number (pos 5)) (Number (pos 3)))))) (normal (Of2 binary.Sub (Of2 binary.Mul (Of2 binary.Sub (Of2 binary.Quot (Number (pos 2)) (Number (pos 3))) (Of unary.Len Nil)) (Number (pos 1))) (Of2 binary.Mul (Of2 binary.Sub (Of2 binary.Quot (Number (pos 2)) (Number (pos 3))) (Of unary.Len Nil)) (Of2 binary.Sub (Number (pos 0)) (Number (pos 1)))))) ≡ true
unfolding computing
pairs_241 = refl

pairs_242 : same (normal (Of2 binary.Lt (Of2 binary.Le (Of unary.Sum (Of3 ternary.Upd (Of2 binary.Cons Undef (Var 6 sort.List)) (Of2 binary.Rem (Number (pos 3)) (Var 1 sort.Int)) (Of unary.Vi (Number (pos 7))))) (Of2 binary.Bor (Of2 binary.Add (Of2 binary.Le (Var 1 sort.Int) (Number (pos 7))) (Of2 binary.Band (Number (pos 3)) (Number (pos 3)))) (Of2 binary.Shl (Number (pos 0)) (Number (pos 1))))) (Of2 binary.Mul (Of unary.Num (Of2 binary.Off (Of2 binary.Nth Nil (Var 2 sort.Int)) (Of2 binary.Lt (Number (pos 0)) (Number (pos 5))))) (Of unary.Sum (Of2 binary.Rep (Global name_g) (Number (pos 1))))))) (normal (Of2 binary.Lt (Of2 binary.Le (Of unary.Sum (Of3 ternary.Upd (Of2 binary.Cons Undef (Var 6 sort.List)) (Of2 binary.Rem (Number (pos 3)) (Var 1 sort.Int)) (Of unary.Vi (Number (pos 7))))) (Of2 binary.Bor (Of2 binary.Add (Of2 binary.Band (Number (pos 3)) (Number (pos 3))) (Of2 binary.Le (Var 1 sort.Int) (Number (pos 7)))) (Of2 binary.Shl (Number (pos 0)) (Number (pos 1))))) (Of2 binary.Mul (Of unary.Num (Of2 binary.Off (Of2 binary.Nth Nil (Var 2 sort.Int)) (Of2 binary.Lt (Number (pos 0)) (Number (pos 5))))) (Of unary.Sum (Of2 binary.Rep (Global name_g) (Number (pos 1))))))) ≡ true
unfolding computing
pairs_242 = refl

pairs_243 : same (normal (Of2 binary.Bxor (Of2 binary.Rem (Number (pos 3)) (Number (pos 3))) (Of unary.Len Nil))) (normal (Number (pos 1))) ≡ false
unfolding computing
pairs_243 = refl

pairs_244 : same (normal (Of2 binary.Off (Of2 binary.Off (Of2 binary.Nth (Of3 ternary.Upd Nil (Number (pos 7)) (Var 3 sort.Val)) (Of2 binary.Shl (Number (pos 0)) (Number (pos 1)))) (Of2 binary.Le (Of unary.Num (Of2 binary.Off Undef (Number (pos 5)))) (Of unary.Unum (Of unary.Vi (Var 0 sort.Int))))) (Of unary.Num (Of2 binary.Off (Of unary.Vi (Number (pos 2))) (Of2 binary.Sub (Number (pos 0)) (Of2 binary.Add (Number (pos 54)) (Number (pos 2)))))))) (normal (Of2 binary.Off (Of2 binary.Off (Of2 binary.Nth (Of3 ternary.Upd Nil (Number (pos 7)) (Var 3 sort.Val)) (Of2 binary.Shl (Number (pos 0)) (Number (pos 1)))) (Of2 binary.Le (Of unary.Num (Of2 binary.Off Undef (Number (pos 5)))) (Of unary.Unum (Of unary.Vi (Of2 binary.Add (Var 0 sort.Int) (Number (pos 0))))))) (Of unary.Num (Of2 binary.Off (Of unary.Vi (Number (pos 2))) (Of2 binary.Sub (Number (pos 0)) (Of2 binary.Add (Number (pos 54)) (Number (pos 2)))))))) ≡ true
unfolding computing
pairs_244 = refl

pairs_245 : same (normal (Of2 binary.Cons (Of unary.Vi (Number (pos 7))) (Of2 binary.Cons (Var 3 sort.Val) (Var 5 sort.List)))) (normal Nil) ≡ false
unfolding computing
pairs_245 = refl

pairs_246 : same (normal (Of2 binary.Mul (Number (pos 2)) (Of unary.Num (Of unary.Vi (Of unary.Sum Nil))))) (normal (Of2 binary.Mul (Of unary.Num (Of unary.Vi (Of unary.Sum Nil))) (Number (pos 2)))) ≡ true
unfolding computing
pairs_246 = refl

pairs_247 : same (normal (Of unary.Vi (Of2 binary.Eq (Of2 binary.Add (Of2 binary.Shr (Number (pos 3)) (Of2 binary.Sub (Var 1 sort.Int) (Number (pos 1)))) (Number (pos 2))) (Of2 binary.Add (Of2 binary.Mul (Of2 binary.Shl (Number (pos 1)) (Number (pos 85070591730234615865843651857942052864))) (Of2 binary.Sub (Var 2 sort.Int) (Number (pos 0)))) (Of2 binary.Bor (Of2 binary.Eq (Var 0 sort.Int) (Number (pos 21))) (Of2 binary.Mul (Var 2 sort.Int) (Number (pos 0)))))))) (normal (Of unary.Vi (Of2 binary.Eq (Of2 binary.Add (Of2 binary.Shr (Number (pos 3)) (Of2 binary.Sub (Var 1 sort.Int) (Number (pos 1)))) (Number (pos 2))) (Of2 binary.Sub (Of2 binary.Mul (Of2 binary.Sub (Var 2 sort.Int) (Number (pos 0))) (Of2 binary.Shl (Number (pos 1)) (Number (pos 85070591730234615865843651857942052864)))) (Of2 binary.Sub (Number (pos 0)) (Of2 binary.Bor (Of2 binary.Eq (Var 0 sort.Int) (Number (pos 21))) (Of2 binary.Mul (Number (pos 0)) (Var 2 sort.Int)))))))) ≡ true
unfolding computing
pairs_247 = refl

pairs_248 : same (normal (Of2 binary.Sub (Of2 binary.Lt (Of unary.Len (Of2 binary.Cons (Var 4 sort.Val) (Var 6 sort.List))) (Of2 binary.Mul (Of2 binary.Bor (Number (pos 1)) (Number (pos 0))) (Of unary.Unum (Var 4 sort.Val)))) (Number (pos 0)))) (normal (Of2 binary.Sub (Of2 binary.Lt (Of unary.Len (Of2 binary.Cons (Var 4 sort.Val) (Var 6 sort.List))) (Of2 binary.Mul (Of unary.Unum (Var 4 sort.Val)) (Of2 binary.Bor (Number (pos 1)) (Number (pos 0))))) (Number (pos 0)))) ≡ true
unfolding computing
pairs_248 = refl

pairs_249 : same (normal (Of2 binary.Cons (Of2 binary.Off (Of2 binary.Off (Of unary.Vi (Var 0 sort.Int)) (Of unary.Num (Var 3 sort.Val))) (Of unary.Sum (Of unary.Rev (Var 5 sort.List)))) (Of2 binary.Cons (Of unary.Vi (Of2 binary.Mul (Number (pos 26)) (Number (pos 2)))) (Of2 binary.App (Of2 binary.Cons Undef (Of2 binary.App (Var 6 sort.List) Nil)) (Of2 binary.Cons (Of unary.Vi (Number (pos 7))) (Of2 binary.Cons (Of unary.Vi (Number (pos 22))) (Var 6 sort.List))))))) (normal (Of2 binary.Cons (Of2 binary.Off (Of2 binary.Off (Of unary.Vi (Var 0 sort.Int)) (Of unary.Num (Var 3 sort.Val))) (Of unary.Sum (Of unary.Rev (Var 5 sort.List)))) (Of2 binary.Cons (Of unary.Vi (Of2 binary.Mul (Number (pos 2)) (Number (pos 26)))) (Of2 binary.Cons Undef (Of2 binary.App (Of2 binary.App (Var 6 sort.List) Nil) (Of2 binary.Cons (Of unary.Vi (Number (pos 7))) (Of2 binary.Cons (Of unary.Vi (Of2 binary.Add (Number (pos 22)) (Number (pos 0)))) (Var 6 sort.List)))))))) ≡ true
unfolding computing
pairs_249 = refl

pairs_250 : same (normal (Of2 binary.Cons (Of unary.Vi (Number (pos 62))) (Of3 ternary.Upd (Of2 binary.Cons (Var 3 sort.Val) (Var 6 sort.List)) (Number (pos 3)) (Var 4 sort.Val)))) (normal (Of2 binary.Cons (Of unary.Vi (Of2 binary.Add (Number (pos 62)) (Number (pos 0)))) (Of3 ternary.Upd (Of2 binary.Cons (Var 3 sort.Val) (Var 6 sort.List)) (Number (pos 3)) (Var 4 sort.Val)))) ≡ true
unfolding computing
pairs_250 = refl

pairs_251 : same (normal (Of3 ternary.Upd (Of2 binary.App (Of2 binary.Cons (Global name_g) Nil) (Of2 binary.Rep (Global name_g) (Number (pos 12)))) (Number (pos 16)) (Of2 binary.Nth (Var 5 sort.List) (Number (pos 3))))) (normal (Of3 ternary.Upd (Of2 binary.Cons (Global name_g) (Of2 binary.App Nil (Of2 binary.Rep (Global name_g) (Number (pos 12))))) (Number (pos 16)) (Of2 binary.Nth (Var 5 sort.List) (Number (pos 3))))) ≡ true
unfolding computing
pairs_251 = refl

pairs_252 : same (normal (Of2 binary.Quot (Of2 binary.Add (Of2 binary.Eq (Of2 binary.Mul (Of unary.Num (Of unary.Vi (Number (pos 2)))) (Of2 binary.Lt (Number (pos 1)) (Number (pos 3)))) (Of2 binary.Sub (Of unary.Unum (Var 3 sort.Val)) (Of2 binary.Add (Number (pos 7)) (Number (pos 3))))) (Of2 binary.Shl (Of2 binary.Rem (Of2 binary.Shr (Number (pos 0)) (Number (pos 87))) (Of unary.Num (Global name_g))) (Var 1 sort.Int))) (Number (pos 7)))) (normal (Of2 binary.Quot (Of2 binary.Add (Of2 binary.Eq (Of2 binary.Mul (Of unary.Num (Of unary.Vi (Of2 binary.Add (Number (pos 2)) (Number (pos 0))))) (Of2 binary.Lt (Number (pos 1)) (Number (pos 3)))) (Number (pos 1))) (Of2 binary.Shl (Of2 binary.Rem (Of2 binary.Shr (Number (pos 0)) (Number (pos 87))) (Of unary.Num (Global name_g))) (Var 1 sort.Int))) (Number (pos 7)))) ≡ false
unfolding computing
pairs_252 = refl

pairs_253 : same (normal (Of2 binary.Nth (Of3 ternary.Upd Nil (Number (pos 2)) (Of unary.Vi (Number (pos 2)))) (Of unary.Num (Var 4 sort.Val)))) (normal (Of2 binary.Nth (Of3 ternary.Upd Nil (Number (pos 2)) (Of unary.Vi (Of2 binary.Add (Number (pos 2)) (Number (pos 0))))) (Of unary.Num (Var 4 sort.Val)))) ≡ true
unfolding computing
pairs_253 = refl

pairs_254 : same (normal (Of unary.Len (Of2 binary.Cons (Of unary.Vi (Var 2 sort.Int)) (Of2 binary.Cons (Of unary.Vi (Number (pos 3))) (Of2 binary.Rep (Of unary.Vi (Number (pos 3))) (Number (pos 14))))))) (normal (Of unary.Len Nil)) ≡ false
unfolding computing
pairs_254 = refl

pairs_255 : same (normal (Of2 binary.Add (Of2 binary.Shr (Var 2 sort.Int) (Number (pos 1))) (Var 0 sort.Int))) (normal (Of2 binary.Add (Var 0 sort.Int) (Of2 binary.Shr (Var 2 sort.Int) (Number (pos 1))))) ≡ true
unfolding computing
pairs_255 = refl

pairs_256 : same (normal (Of2 binary.App (Of3 ternary.Slice (Of2 binary.Cons (Of2 binary.Off (Of unary.Vi (Number (pos 29))) (Var 0 sort.Int)) (Of2 binary.Cons Undef (Of3 ternary.Upd (Var 6 sort.List) (Number (pos 3)) (Var 4 sort.Val)))) (Of2 binary.Sub (Of2 binary.Mul (Var 1 sort.Int) (Number (pos 74))) (Of2 binary.Mul (Number (pos 5)) (Number (pos 38)))) (Of2 binary.Rem (Var 2 sort.Int) (Of2 binary.Shl (Number (pos 1)) (Number (pos 85070591730234615865843651857942052864))))) (Of2 binary.App (Var 6 sort.List) (Of2 binary.Rep (Of unary.Vi (Number (pos 5))) (Of2 binary.Bxor (Number (pos 0)) (Var 0 sort.Int)))))) (normal (Of2 binary.App (Of3 ternary.Slice (Of2 binary.Cons (Of2 binary.Off (Of unary.Vi (Of2 binary.Add (Number (pos 29)) (Number (pos 0)))) (Var 0 sort.Int)) (Of2 binary.Cons Undef (Of3 ternary.Upd (Var 6 sort.List) (Number (pos 3)) (Var 4 sort.Val)))) (Of2 binary.Sub (Of2 binary.Mul (Number (pos 74)) (Var 1 sort.Int)) (Of2 binary.Mul (Number (pos 5)) (Number (pos 38)))) (Of2 binary.Rem (Var 2 sort.Int) (Of2 binary.Shl (Number (pos 1)) (Number (pos 85070591730234615865843651857942052864))))) (Of2 binary.App (Var 6 sort.List) (Of2 binary.Rep (Of unary.Vi (Number (pos 5))) (Of2 binary.Bxor (Number (pos 0)) (Var 0 sort.Int)))))) ≡ true
unfolding computing
pairs_256 = refl

pairs_257 : same (normal (Of unary.Sum (Of3 ternary.Upd (Of3 ternary.Upd (Of2 binary.Cons (Var 4 sort.Val) (Var 6 sort.List)) (Number (pos 3)) (Global name_g)) (Of2 binary.Eq (Of2 binary.Shl (Number (pos 3)) (Number (pos 0))) (Of2 binary.Mul (Number (pos 3)) (Number (pos 92)))) (Of2 binary.Off (Var 4 sort.Val) (Var 0 sort.Int))))) (normal (Of unary.Sum (Of3 ternary.Upd (Of3 ternary.Upd Nil (Number (pos 3)) (Global name_g)) (Of2 binary.Eq (Of2 binary.Shl (Number (pos 3)) (Number (pos 0))) (Of2 binary.Mul (Number (pos 92)) (Number (pos 3)))) (Of2 binary.Off (Var 4 sort.Val) (Var 0 sort.Int))))) ≡ false
unfolding computing
pairs_257 = refl

pairs_258 : same (normal (Of2 binary.Le (Number (pos 2)) (Of2 binary.Shl (Of unary.Sum (Of2 binary.Cons (Of unary.Vi (Number (pos 2))) (Var 5 sort.List))) (Number (pos 1))))) (normal (Of2 binary.Le (Number (pos 2)) (Of2 binary.Shl (Of unary.Sum (Of2 binary.Cons (Of unary.Vi (Of2 binary.Add (Number (pos 2)) (Number (pos 0)))) (Var 5 sort.List))) (Number (pos 1))))) ≡ true
unfolding computing
pairs_258 = refl

pairs_259 : same (normal (Of2 binary.Nth (Of2 binary.Rep (Var 3 sort.Val) (Number (pos 6))) (Of2 binary.Quot (Number (pos 99)) (Number (pos 56))))) (normal (Of2 binary.Nth Nil (Of2 binary.Quot (Number (pos 99)) (Number (pos 56))))) ≡ false
unfolding computing
pairs_259 = refl

pairs_260 : same (normal (Of2 binary.Cons (Of2 binary.Nth (Of2 binary.App Nil (Var 6 sort.List)) (Of2 binary.Mul (Number (pos 50)) (Var 0 sort.Int))) (Of2 binary.App (Of2 binary.Cons (Var 4 sort.Val) (Of3 ternary.Slice (Var 5 sort.List) (Number (pos 5)) (Number (pos 0)))) (Of3 ternary.Slice (Of2 binary.App Nil (Var 6 sort.List)) (Var 2 sort.Int) (Number (pos 3)))))) (normal (Of2 binary.Cons (Of2 binary.Nth (Of2 binary.App Nil (Var 6 sort.List)) (Of2 binary.Mul (Var 0 sort.Int) (Number (pos 50)))) (Of2 binary.Cons (Var 4 sort.Val) (Of2 binary.App (Of3 ternary.Slice (Var 5 sort.List) (Number (pos 5)) (Number (pos 0))) (Of3 ternary.Slice (Of2 binary.App Nil (Var 6 sort.List)) (Var 2 sort.Int) (Number (pos 3))))))) ≡ true
unfolding computing
pairs_260 = refl

pairs_261 : same (normal (Of3 ternary.Upd (Of2 binary.Cons (Of2 binary.Off (Var 3 sort.Val) (Number (pos 0))) (Of2 binary.Rep Undef (Number (pos 13)))) (Number (pos 2)) (Of2 binary.Nth (Of2 binary.Cons (Of unary.Vi (Number (pos 2))) Nil) (Of2 binary.Rem (Var 1 sort.Int) (Number (pos 51)))))) (normal (Of3 ternary.Upd (Of2 binary.Cons (Of2 binary.Off (Var 3 sort.Val) (Number (pos 0))) (Of2 binary.Rep Undef (Number (pos 13)))) (Number (pos 2)) (Of2 binary.Nth (Of2 binary.Cons (Of unary.Vi (Of2 binary.Add (Number (pos 2)) (Number (pos 0)))) Nil) (Of2 binary.Rem (Var 1 sort.Int) (Number (pos 51)))))) ≡ true
unfolding computing
pairs_261 = refl

pairs_262 : same (normal (Of2 binary.Add (Of2 binary.Add (Number (pos 86)) (Of2 binary.Mul (Of2 binary.Mul (Number (pos 5)) (Number (pos 0))) (Of2 binary.Eq (Number (pos 3)) (Number (pos 3))))) (Of unary.Sum (Of2 binary.Cons Undef (Of2 binary.Cons (Global name_g) (Var 6 sort.List)))))) (normal (Of2 binary.Add (Of2 binary.Mul (Number (pos 5)) (Of2 binary.Mul (Number (pos 0)) (Of2 binary.Eq (Number (pos 3)) (Number (pos 3))))) (Of2 binary.Add (Number (pos 86)) (Of unary.Sum (Of2 binary.Cons Undef (Of2 binary.Cons (Global name_g) (Var 6 sort.List))))))) ≡ true
unfolding computing
pairs_262 = refl

pairs_263 : same (normal (Of2 binary.Shr (Of2 binary.Shl (Of2 binary.Le (Of2 binary.Add (Of unary.Num (Of unary.Vi (Number (pos 2)))) (Of2 binary.Mul (Number (pos 2)) (Number (pos 57)))) (Of unary.Len (Of2 binary.App (Var 6 sort.List) Nil))) (Number (pos 91))) (Var 1 sort.Int))) (normal (Of2 binary.Shr (Of2 binary.Shl (Of2 binary.Le (Of2 binary.Add (Of unary.Num (Of unary.Vi (Number (pos 2)))) (Of2 binary.Mul (Number (pos 57)) (Number (pos 2)))) (Of unary.Len (Of2 binary.App (Var 6 sort.List) Nil))) (Number (pos 91))) (Var 1 sort.Int))) ≡ true
unfolding computing
pairs_263 = refl

pairs_264 : same (normal (Of unary.Rev (Of unary.Rev (Of2 binary.Rep Undef (Number (pos 13)))))) (normal (Of unary.Rev Nil)) ≡ false
unfolding computing
pairs_264 = refl

pairs_265 : same (normal (Of2 binary.Off (Of unary.Vi (Of unary.Sum (Of2 binary.App Nil (Var 6 sort.List)))) (Of2 binary.Add (Of unary.Len (Of3 ternary.Slice (Var 6 sort.List) (Var 0 sort.Int) (Number (pos 2)))) (Number (pos 7))))) (normal (Of2 binary.Off (Of unary.Vi (Of2 binary.Add (Of unary.Sum (Of2 binary.App Nil (Var 6 sort.List))) (Number (pos 0)))) (Of2 binary.Add (Number (pos 7)) (Of unary.Len (Of3 ternary.Slice (Var 6 sort.List) (Var 0 sort.Int) (Number (pos 2))))))) ≡ true
unfolding computing
pairs_265 = refl

pairs_266 : same (normal (Of3 ternary.Slice (Of2 binary.Cons (Of unary.Vi (Number (pos 3))) (Of2 binary.Rep (Of2 binary.Nth (Var 6 sort.List) (Number (pos 5))) (Number (pos 1)))) (Number (pos 3)) (Of unary.Unum (Of2 binary.Off (Of unary.Vi (Var 0 sort.Int)) (Var 2 sort.Int))))) (normal (Of3 ternary.Slice (Of2 binary.Cons (Of unary.Vi (Number (pos 3))) (Of2 binary.Rep Undef (Number (pos 1)))) (Number (pos 3)) (Of unary.Unum (Of2 binary.Off (Of unary.Vi (Var 0 sort.Int)) (Var 2 sort.Int))))) ≡ false
unfolding computing
pairs_266 = refl

pairs_267 : same (normal (Of unary.Rev (Of2 binary.Cons (Of unary.Vi (Number (pos 2))) Nil))) (normal (Of unary.Rev (Of2 binary.Cons (Of unary.Vi (Of2 binary.Add (Number (pos 2)) (Number (pos 0)))) Nil))) ≡ true
unfolding computing
pairs_267 = refl

pairs_268 : same (normal (Of unary.Vi (Of unary.Sum (Of3 ternary.Upd (Of2 binary.Rep (Global name_g) (Number (pos 2))) (Of2 binary.Add (Of2 binary.Sub (Var 2 sort.Int) (Var 2 sort.Int)) (Of2 binary.Bxor (Number (pos 0)) (Number (pos 0)))) (Of2 binary.Off (Global name_g) (Number (pos 1))))))) (normal (Of unary.Vi (Of unary.Sum (Of3 ternary.Upd (Of2 binary.Rep (Global name_g) (Number (pos 2))) (Of2 binary.Sub (Of2 binary.Sub (Var 2 sort.Int) (Var 2 sort.Int)) (Of2 binary.Sub (Number (pos 0)) (Of2 binary.Bxor (Number (pos 0)) (Number (pos 0))))) (Of2 binary.Off (Global name_g) (Number (pos 1))))))) ≡ true
unfolding computing
pairs_268 = refl

pairs_269 : same (normal (Of unary.Unum (Of unary.Vi (Of2 binary.Le (Number (pos 0)) (Number (pos 7)))))) (normal (Of unary.Unum (Of unary.Vi (Of2 binary.Add (Of2 binary.Le (Number (pos 0)) (Number (pos 7))) (Number (pos 0)))))) ≡ true
unfolding computing
pairs_269 = refl

pairs_270 : same (normal (Of2 binary.Off (Of2 binary.Nth (Of2 binary.Cons (Of unary.Vi (Number (pos 1))) (Of2 binary.App Nil Nil)) (Of2 binary.Band (Number (pos 2)) (Var 0 sort.Int))) (Of2 binary.Mul (Of2 binary.Le (Number (pos 7)) (Of2 binary.Lt (Var 0 sort.Int) (Number (pos 6)))) (Of2 binary.Le (Of2 binary.Shl (Var 2 sort.Int) (Number (pos 5))) (Of2 binary.Le (Number (pos 7)) (Number (pos 12))))))) (normal (Of2 binary.Off (Of2 binary.Nth (Of2 binary.Cons (Of unary.Vi (Number (pos 1))) (Of2 binary.App Nil Nil)) (Of2 binary.Band (Number (pos 2)) (Var 0 sort.Int))) (Of2 binary.Mul (Of2 binary.Le (Of2 binary.Shl (Var 2 sort.Int) (Number (pos 5))) (Of2 binary.Le (Number (pos 7)) (Number (pos 12)))) (Of2 binary.Le (Number (pos 7)) (Of2 binary.Lt (Var 0 sort.Int) (Number (pos 6))))))) ≡ true
unfolding computing
pairs_270 = refl

pairs_271 : same (normal (Of2 binary.Off (Of2 binary.Off (Of2 binary.Off (Of2 binary.Off (Global name_g) (Number (pos 0))) (Of2 binary.Add (Var 1 sort.Int) (Var 2 sort.Int))) (Of unary.Num (Of unary.Vi (Var 0 sort.Int)))) (Of2 binary.Mul (Of2 binary.Shl (Of unary.Num (Global name_g)) (Of2 binary.Sub (Var 0 sort.Int) (Number (pos 2)))) (Of2 binary.Band (Of2 binary.Band (Number (pos 56)) (Number (pos 3))) (Of2 binary.Mul (Var 0 sort.Int) (Number (pos 0))))))) (normal (Of2 binary.Off (Of2 binary.Off (Of2 binary.Off (Of2 binary.Off (Global name_g) (Number (pos 0))) (Of2 binary.Add (Var 2 sort.Int) (Var 1 sort.Int))) (Of unary.Num (Of unary.Vi (Var 0 sort.Int)))) (Of2 binary.Mul (Of2 binary.Band (Of2 binary.Band (Number (pos 56)) (Number (pos 3))) (Of2 binary.Mul (Number (pos 0)) (Var 0 sort.Int))) (Of2 binary.Shl (Of unary.Num (Global name_g)) (Of2 binary.Sub (Var 0 sort.Int) (Number (pos 2))))))) ≡ true
unfolding computing
pairs_271 = refl

pairs_272 : same (normal (Of unary.Rev (Of2 binary.App (Of2 binary.Cons (Of unary.Vi (Number (pos 1))) (Var 5 sort.List)) (Of2 binary.Cons (Of unary.Vi (Number (pos 3))) Nil)))) (normal (Of unary.Rev (Of2 binary.Cons (Of unary.Vi (Number (pos 1))) (Of2 binary.App (Var 5 sort.List) (Of2 binary.Cons (Of unary.Vi (Of2 binary.Add (Number (pos 3)) (Number (pos 0)))) Nil))))) ≡ true
unfolding computing
pairs_272 = refl

pairs_273 : same (normal (Of2 binary.Nth (Of3 ternary.Upd (Of2 binary.Cons (Of2 binary.Nth (Var 6 sort.List) (Var 0 sort.Int)) (Of unary.Rev (Of2 binary.App Nil (Var 6 sort.List)))) (Var 0 sort.Int) (Of unary.Vi (Number (pos 170141183460469231731687303715884105727)))) (Of2 binary.Eq (Number (pos 1)) (Var 0 sort.Int)))) (normal (Of2 binary.Nth (Of3 ternary.Upd (Of2 binary.Cons (Of2 binary.Nth (Var 6 sort.List) (Var 0 sort.Int)) (Of unary.Rev (Of2 binary.App Nil (Var 6 sort.List)))) (Var 0 sort.Int) (Of unary.Vi (Of2 binary.Add (Number (pos 170141183460469231731687303715884105727)) (Number (pos 0))))) (Of2 binary.Eq (Number (pos 1)) (Var 0 sort.Int)))) ≡ true
unfolding computing
pairs_273 = refl

pairs_274 : same (normal (Of unary.Vi (Number (pos 4294967295)))) (normal (Of unary.Vi (Of2 binary.Add (Number (pos 4294967295)) (Number (pos 0))))) ≡ true
unfolding computing
pairs_274 = refl

pairs_275 : same (normal (Of2 binary.Add (Number (pos 3)) (Of unary.Sum Nil))) (normal (Of2 binary.Add (Of unary.Sum Nil) (Number (pos 3)))) ≡ true
unfolding computing
pairs_275 = refl

pairs_276 : same (normal (Of2 binary.Cons (Of2 binary.Nth (Var 6 sort.List) (Number (pos 0))) (Of2 binary.Cons (Global name_g) (Of2 binary.App (Var 5 sort.List) Nil)))) (normal (Of2 binary.Cons (Of2 binary.Nth (Var 6 sort.List) (Number (pos 0))) Nil)) ≡ false
unfolding computing
pairs_276 = refl

pairs_277 : same (normal (Of2 binary.Nth (Of2 binary.App Nil (Of2 binary.App (Of2 binary.App (Var 5 sort.List) Nil) (Of3 ternary.Slice (Var 5 sort.List) (Var 0 sort.Int) (Var 2 sort.Int)))) (Of2 binary.Eq (Number (pos 23)) (Number (pos 5))))) (normal (Of2 binary.Nth (Of2 binary.App Nil (Of2 binary.App (Of2 binary.App (Var 5 sort.List) Nil) (Of3 ternary.Slice (Var 5 sort.List) (Var 0 sort.Int) (Var 2 sort.Int)))) (Number (pos 1)))) ≡ false
unfolding computing
pairs_277 = refl

pairs_278 : same (normal (Of2 binary.App (Of2 binary.Cons (Of unary.Vi (Number (pos 7))) (Of3 ternary.Slice (Of2 binary.Cons Undef (Var 5 sort.List)) (Var 2 sort.Int) (Number (pos 3)))) (Var 6 sort.List))) (normal (Of2 binary.Cons (Of unary.Vi (Number (pos 7))) (Of2 binary.App (Of3 ternary.Slice (Of2 binary.Cons Undef (Var 5 sort.List)) (Var 2 sort.Int) (Number (pos 3))) (Var 6 sort.List)))) ≡ true
unfolding computing
pairs_278 = refl

pairs_279 : same (normal (Of2 binary.App (Of2 binary.Cons (Of2 binary.Off (Of unary.Vi (Number (pos 2))) (Number (pos 1))) (Of2 binary.Cons (Of2 binary.Nth Nil (Number (pos 1))) Nil)) (Of2 binary.Cons (Of unary.Vi (Of unary.Sum Nil)) (Of2 binary.Rep (Of unary.Vi (Number (pos 5))) (Of2 binary.Eq (Number (pos 0)) (Number (pos 5))))))) (normal (Of2 binary.Cons (Of2 binary.Off (Of unary.Vi (Of2 binary.Add (Number (pos 2)) (Number (pos 0)))) (Number (pos 1))) (Of2 binary.App (Of2 binary.Cons (Of2 binary.Nth Nil (Number (pos 1))) Nil) (Of2 binary.Cons (Of unary.Vi (Of unary.Sum Nil)) (Of2 binary.Rep (Of unary.Vi (Number (pos 5))) (Of2 binary.Eq (Number (pos 0)) (Number (pos 5)))))))) ≡ true
unfolding computing
pairs_279 = refl

pairs_280 : same (normal (Of unary.Num (Of unary.Vi (Of2 binary.Add (Number (pos 9223372036854775813)) (Of2 binary.Sub (Of unary.Sum (Var 5 sort.List)) (Number (pos 58))))))) (normal (Of unary.Num (Of unary.Vi (Of2 binary.Add (Of2 binary.Sub (Of unary.Sum (Var 5 sort.List)) (Number (pos 58))) (Number (pos 9223372036854775813)))))) ≡ true
unfolding computing
pairs_280 = refl

pairs_281 : same (normal (Of unary.Rev (Of3 ternary.Slice (Of2 binary.Rep (Var 4 sort.Val) (Number (pos 17))) (Of2 binary.Sub (Var 2 sort.Int) (Number (pos 1))) (Of2 binary.Lt (Var 2 sort.Int) (Number (pos 7)))))) (normal Nil) ≡ false
unfolding computing
pairs_281 = refl

pairs_282 : same (normal (Of2 binary.Rem (Of unary.Num (Of unary.Vi (Number (pos 70)))) (Of2 binary.Add (Of unary.Num (Var 3 sort.Val)) (Number (pos 5))))) (normal (Of2 binary.Rem (Of unary.Num (Of unary.Vi (Number (pos 70)))) (Of2 binary.Sub (Of unary.Num (Var 3 sort.Val)) (Of2 binary.Sub (Number (pos 0)) (Number (pos 5)))))) ≡ true
unfolding computing
pairs_282 = refl

pairs_283 : same (normal (Of unary.Rev (Of2 binary.Rep (Var 4 sort.Val) (Number (pos 19))))) (normal (Of unary.Rev Nil)) ≡ false
unfolding computing
pairs_283 = refl

pairs_284 : same (normal (Of3 ternary.Slice (Of unary.Rev (Of2 binary.App (Of3 ternary.Upd Nil (Var 2 sort.Int) (Global name_g)) (Var 6 sort.List))) (Of unary.Num (Of2 binary.Off (Global name_g) (Number (pos 1)))) (Of2 binary.Band (Of2 binary.Mul (Number (pos 7)) (Number (pos 5))) (Number (pos 5))))) (normal (Of3 ternary.Slice (Of unary.Rev (Of2 binary.App (Of3 ternary.Upd Nil (Var 2 sort.Int) (Global name_g)) (Var 6 sort.List))) (Of unary.Num (Of2 binary.Off (Global name_g) (Number (pos 1)))) (Of2 binary.Band (Of2 binary.Mul (Number (pos 5)) (Number (pos 7))) (Number (pos 5))))) ≡ true
unfolding computing
pairs_284 = refl

pairs_285 : same (normal (Of2 binary.App (Of unary.Rev (Of unary.Rev (Of2 binary.Cons Undef Nil))) (Of3 ternary.Upd (Of2 binary.App (Of2 binary.Cons (Var 4 sort.Val) Nil) (Of3 ternary.Slice Nil (Var 0 sort.Int) (Number (pos 3)))) (Number (pos 39)) (Of2 binary.Off (Var 3 sort.Val) (Var 1 sort.Int))))) (normal (Of2 binary.App Nil (Of3 ternary.Upd (Of2 binary.Cons (Var 4 sort.Val) (Of2 binary.App Nil (Of3 ternary.Slice Nil (Var 0 sort.Int) (Number (pos 3))))) (Number (pos 39)) (Of2 binary.Off (Var 3 sort.Val) (Var 1 sort.Int))))) ≡ false
unfolding computing
pairs_285 = refl

pairs_286 : same (normal (Of2 binary.Mul (Of unary.Num (Of2 binary.Off (Global name_g) (Number (pos 7)))) (Of unary.Len (Of2 binary.Cons (Of unary.Vi (Number (pos 18446744073709551616))) (Var 5 sort.List))))) (normal (Of2 binary.Mul (Of unary.Len (Of2 binary.Cons (Of unary.Vi (Number (pos 18446744073709551616))) (Var 5 sort.List))) (Of unary.Num (Of2 binary.Off (Global name_g) (Number (pos 7)))))) ≡ true
unfolding computing
pairs_286 = refl

pairs_287 : same (normal (Of2 binary.Bor (Of2 binary.Mul (Of2 binary.Shr (Number (pos 1)) (Of2 binary.Rem (Of unary.Num (Of unary.Vi (Number (pos 0)))) (Of unary.Unum (Of unary.Vi (Number (pos 4294967296)))))) (Of2 binary.Band (Of2 binary.Mul (Of2 binary.Bor (Var 1 sort.Int) (Var 2 sort.Int)) (Number (pos 2))) (Number (pos 7)))) (Of2 binary.Sub (Of2 binary.Le (Of2 binary.Add (Of2 binary.Le (Number (pos 88)) (Number (pos 7))) (Of unary.Num (Global name_g))) (Of2 binary.Shl (Of2 binary.Le (Var 0 sort.Int) (Number (pos 0))) (Of2 binary.Sub (Number (pos 9223372036854775813)) (Number (pos 3))))) (Of unary.Unum (Of2 binary.Off Undef (Var 0 sort.Int)))))) (normal (Of2 binary.Bor (Of2 binary.Mul (Of2 binary.Shr (Number (pos 1)) (Of2 binary.Rem (Of unary.Num (Of unary.Vi (Of2 binary.Add (Number (pos 0)) (Number (pos 0))))) (Of unary.Unum (Of unary.Vi (Of2 binary.Add (Number (pos 4294967296)) (Number (pos 0))))))) (Number (pos 1))) (Of2 binary.Sub (Of2 binary.Le (Of2 binary.Add (Of unary.Num (Global name_g)) (Of2 binary.Le (Number (pos 88)) (Number (pos 7)))) (Of2 binary.Shl (Of2 binary.Le (Var 0 sort.Int) (Number (pos 0))) (Of2 binary.Sub (Number (pos 9223372036854775813)) (Number (pos 3))))) (Of unary.Unum (Of2 binary.Off Undef (Var 0 sort.Int)))))) ≡ false
unfolding computing
pairs_287 = refl

pairs_288 : same (normal (Of2 binary.Mul (Number (pos 7)) (Of2 binary.Shr (Number (pos 55)) (Number (pos 2))))) (normal (Of2 binary.Mul (Of2 binary.Shr (Number (pos 55)) (Number (pos 2))) (Number (pos 7)))) ≡ true
unfolding computing
pairs_288 = refl

pairs_289 : same (normal (Of2 binary.Add (Of2 binary.Mul (Number (pos 2)) (Var 2 sort.Int)) (Of unary.Sum Nil))) (normal (Of2 binary.Add (Of unary.Sum Nil) (Of2 binary.Mul (Number (pos 2)) (Var 2 sort.Int)))) ≡ true
unfolding computing
pairs_289 = refl

pairs_290 : same (normal (Of2 binary.Add (Of2 binary.Add (Of unary.Len (Of2 binary.Cons (Of unary.Vi (Number (pos 0))) (Of unary.Rev (Var 6 sort.List)))) (Number (pos 2))) (Of unary.Unum (Of2 binary.Nth (Of3 ternary.Slice (Of3 ternary.Slice Nil (Number (pos 3)) (Number (pos 3))) (Var 2 sort.Int) (Number (pos 5))) (Of2 binary.Sub (Number (pos 63)) (Number (pos 0))))))) (normal (Of2 binary.Add (Number (pos 1)) (Of2 binary.Add (Of unary.Len (Of2 binary.Cons (Of unary.Vi (Number (pos 0))) (Of unary.Rev (Var 6 sort.List)))) (Number (pos 2))))) ≡ false
unfolding computing
pairs_290 = refl

pairs_291 : same (normal (Of unary.Vi (Of2 binary.Add (Number (pos 0)) (Of2 binary.Le (Number (pos 0)) (Var 1 sort.Int))))) (normal (Of unary.Vi (Of2 binary.Sub (Number (pos 0)) (Of2 binary.Sub (Number (pos 0)) (Of2 binary.Le (Number (pos 0)) (Var 1 sort.Int)))))) ≡ true
unfolding computing
pairs_291 = refl

pairs_292 : same (normal (Of unary.Vi (Of unary.Sum (Of unary.Rev (Of2 binary.Cons (Of unary.Vi (Number (pos 7))) (Var 5 sort.List)))))) (normal (Of unary.Vi (Of unary.Sum (Of unary.Rev (Of2 binary.Cons (Of unary.Vi (Of2 binary.Add (Number (pos 7)) (Number (pos 0)))) (Var 5 sort.List)))))) ≡ true
unfolding computing
pairs_292 = refl

pairs_293 : same (normal (Of2 binary.App (Of2 binary.Cons (Global name_g) (Var 6 sort.List)) (Of2 binary.Cons (Var 3 sort.Val) (Of3 ternary.Upd Nil (Number (pos 7)) Undef)))) (normal (Of2 binary.Cons (Global name_g) (Of2 binary.App (Var 6 sort.List) (Of2 binary.Cons (Var 3 sort.Val) Nil)))) ≡ false
unfolding computing
pairs_293 = refl

pairs_294 : same (normal (Of2 binary.Lt (Number (pos 2)) (Of unary.Unum (Of2 binary.Off (Of2 binary.Off (Of unary.Vi (Number (pos 85070591730234615865843651857942052864))) (Number (pos 1))) (Of2 binary.Le (Var 2 sort.Int) (Of2 binary.Mul (Number (pos 1)) (Var 2 sort.Int))))))) (normal (Of2 binary.Lt (Number (pos 2)) (Of unary.Unum (Of2 binary.Off (Of2 binary.Off (Of unary.Vi (Of2 binary.Add (Number (pos 85070591730234615865843651857942052864)) (Number (pos 0)))) (Number (pos 1))) (Of2 binary.Le (Var 2 sort.Int) (Of2 binary.Mul (Var 2 sort.Int) (Number (pos 1)))))))) ≡ true
unfolding computing
pairs_294 = refl

pairs_295 : same (normal (Of unary.Num (Of2 binary.Nth (Of2 binary.Cons (Of unary.Vi (Number (pos 5))) (Var 5 sort.List)) (Number (pos 0))))) (normal (Of unary.Num (Of2 binary.Nth (Of2 binary.Cons (Of unary.Vi (Of2 binary.Add (Number (pos 5)) (Number (pos 0)))) (Var 5 sort.List)) (Number (pos 0))))) ≡ true
unfolding computing
pairs_295 = refl

pairs_296 : same (normal (Of unary.Rev (Of2 binary.Cons (Of unary.Vi (Number (pos 7))) (Var 6 sort.List)))) (normal (Of unary.Rev (Of2 binary.Cons (Of unary.Vi (Of2 binary.Add (Number (pos 7)) (Number (pos 0)))) (Var 6 sort.List)))) ≡ true
unfolding computing
pairs_296 = refl

pairs_297 : same (normal (Of2 binary.Off (Of unary.Vi (Of2 binary.Shl (Of2 binary.Lt (Of2 binary.Sub (Var 2 sort.Int) (Var 1 sort.Int)) (Of2 binary.Sub (Var 2 sort.Int) (Number (pos 3)))) (Of2 binary.Mul (Number (pos 49)) (Of unary.Len Nil)))) (Of2 binary.Add (Var 1 sort.Int) (Number (pos 0))))) (normal (Of2 binary.Off (Of unary.Vi (Of2 binary.Shl (Of2 binary.Lt (Number (pos 1)) (Of2 binary.Sub (Var 2 sort.Int) (Number (pos 3)))) (Of2 binary.Mul (Of unary.Len Nil) (Number (pos 49))))) (Of2 binary.Add (Var 1 sort.Int) (Number (pos 0))))) ≡ false
unfolding computing
pairs_297 = refl

pairs_298 : same (normal (Of2 binary.Cons (Of unary.Vi (Of unary.Num (Global name_g))) (Of3 ternary.Slice (Of unary.Rev (Of unary.Rev Nil)) (Of2 binary.Mul (Number (pos 17)) (Var 2 sort.Int)) (Number (pos 0))))) (normal (Of2 binary.Cons (Of unary.Vi (Of unary.Num (Global name_g))) (Of3 ternary.Slice (Of unary.Rev (Of unary.Rev Nil)) (Of2 binary.Mul (Var 2 sort.Int) (Number (pos 17))) (Number (pos 0))))) ≡ true
unfolding computing
pairs_298 = refl

pairs_299 : same (normal (Of unary.Vi (Of2 binary.Sub (Of2 binary.Mul (Of unary.Sum (Of unary.Rev Nil)) (Of2 binary.Band (Of2 binary.Rem (Var 2 sort.Int) (Number (pos 22))) (Of2 binary.Mul (Number (pos 7)) (Number (pos 2))))) (Number (pos 1))))) (normal (Of unary.Vi (Of2 binary.Sub (Of2 binary.Mul (Of2 binary.Band (Of2 binary.Rem (Var 2 sort.Int) (Number (pos 22))) (Of2 binary.Mul (Number (pos 7)) (Number (pos 2)))) (Of unary.Sum (Of unary.Rev Nil))) (Number (pos 1))))) ≡ true
unfolding computing
pairs_299 = refl

pairs_300 : same (normal (Of2 binary.Lt (Of2 binary.Sub (Var 0 sort.Int) (Of2 binary.Lt (Of2 binary.Add (Of2 binary.Add (Var 1 sort.Int) (Number (pos 0))) (Of2 binary.Mul (Var 0 sort.Int) (Number (pos 5)))) (Of2 binary.Add (Of2 binary.Add (Var 1 sort.Int) (Number (pos 3))) (Of unary.Sum (Var 6 sort.List))))) (Var 2 sort.Int))) (normal (Number (pos 1))) ≡ false
unfolding computing
pairs_300 = refl
