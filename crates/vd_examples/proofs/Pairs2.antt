-- Terms and their normal forms.
use Rattle.std.specs.Prelude.{◌≡◌, refl, pos, negsuc, true, false}
use Rattle.vd_terms.specs.Terms.{Number, Var, Global, Undef, Nil, Of, Of2, Of3}
use Rattle.vd_rules.specs.Computing.{computing}
use Rattle.vd_rules.specs.Normal.{normal}
use Rattle.vd_rules.specs.TermOrder.{same}
use Rattle.vd_terms.specs.declared.operation.Unary.TheVariants as unary
use Rattle.vd_terms.specs.declared.operation.Binary.TheVariants as binary
use Rattle.vd_terms.specs.declared.operation.Ternary.TheVariants as ternary
use Rattle.vd_logic.specs.declared.term.Sort.TheVariants as sort
use Rattle.vd_examples.specs.Names.{name_g}

pairs_101 : same (normal (Of unary.Sum (Of3 ternary.Slice Nil (Number (pos 57)) (Number (pos 0))))) (normal (Number (pos 1))) ≡ false
unfolding computing
pairs_101 = refl

pairs_102 : normal (Of2 binary.Bxor (Of2 binary.Add (Number (pos 7)) (Number (pos 2))) (Var 2 sort.Int)) ≡ (Of2 binary.Bxor (Number (pos 9)) (Var 2 sort.Int))
unfolding computing
pairs_102 = refl

pairs_103 : normal (Of2 binary.Cons (Of2 binary.Off (Of2 binary.Off (Of2 binary.Off (Global name_g) (Number (pos 0))) (Number (pos 19))) (Of unary.Unum (Of unary.Vi (Var 2 sort.Int)))) (Of3 ternary.Slice (Of3 ternary.Slice (Of2 binary.App (Of2 binary.Rep (Global name_g) (Number (pos 8))) (Of2 binary.App (Var 5 sort.List) Nil)) (Of2 binary.Le (Number (pos 2)) (Var 0 sort.Int)) (Of2 binary.Shl (Number (pos 5)) (Var 2 sort.Int))) (Of2 binary.Shl (Var 2 sort.Int) (Var 2 sort.Int)) (Of2 binary.Mul (Of2 binary.Add (Number (pos 7)) (Number (pos 32))) (Of unary.Len (Var 6 sort.List))))) ≡ (Of2 binary.Cons (Of2 binary.Off (Global name_g) (Of2 binary.Add (Number (pos 19)) (Of unary.Unum (Of unary.Vi (Var 2 sort.Int))))) (Of3 ternary.Slice (Of3 ternary.Slice (Of2 binary.Cons (Global name_g) (Of2 binary.Cons (Global name_g) (Of2 binary.Cons (Global name_g) (Of2 binary.Cons (Global name_g) (Of2 binary.Cons (Global name_g) (Of2 binary.Cons (Global name_g) (Of2 binary.Cons (Global name_g) (Of2 binary.Cons (Global name_g) (Of2 binary.App (Var 5 sort.List) Nil))))))))) (Of2 binary.Le (Number (pos 2)) (Var 0 sort.Int)) (Of2 binary.Shl (Number (pos 5)) (Var 2 sort.Int))) (Of2 binary.Shl (Var 2 sort.Int) (Var 2 sort.Int)) (Of2 binary.Mul (Number (pos 39)) (Of unary.Len (Var 6 sort.List)))))
unfolding computing
pairs_103 = refl

pairs_104 : normal (Of2 binary.Nth (Of2 binary.App (Of2 binary.Cons (Var 4 sort.Val) (Var 5 sort.List)) (Of2 binary.App Nil Nil)) (Of2 binary.Sub (Number (pos 5)) (Number (pos 1)))) ≡ (Of2 binary.Nth (Of2 binary.App (Var 5 sort.List) Nil) (Number (pos 3)))
unfolding computing
pairs_104 = refl

pairs_105 : normal (Of3 ternary.Upd (Of3 ternary.Upd (Of3 ternary.Upd (Var 6 sort.List) (Number (pos 2)) (Global name_g)) (Number (pos 4294967296)) (Var 4 sort.Val)) (Of2 binary.Shl (Of2 binary.Add (Number (pos 85070591730234615865843651857942052864)) (Var 2 sort.Int)) (Var 1 sort.Int)) (Of unary.Vi (Number (pos 5)))) ≡ (Of3 ternary.Upd (Of3 ternary.Upd (Of3 ternary.Upd (Var 6 sort.List) (Number (pos 2)) (Global name_g)) (Number (pos 4294967296)) (Var 4 sort.Val)) (Of2 binary.Shl (Of2 binary.Add (Number (pos 85070591730234615865843651857942052864)) (Var 2 sort.Int)) (Var 1 sort.Int)) (Of unary.Vi (Number (pos 5))))
unfolding computing
pairs_105 = refl

pairs_106 : same (normal (Of2 binary.Cons (Of2 binary.Off (Of unary.Vi (Number (pos 49))) (Of2 binary.Shr (Number (pos 6)) (Var 1 sort.Int))) (Var 6 sort.List))) (normal (Of2 binary.Cons (Of2 binary.Off (Of unary.Vi (Of2 binary.Add (Number (pos 49)) (Number (pos 0)))) (Of2 binary.Shr (Number (pos 6)) (Var 1 sort.Int))) (Var 6 sort.List))) ≡ true
unfolding computing
pairs_106 = refl

pairs_107 : same (normal (Of2 binary.Cons (Of unary.Vi (Var 2 sort.Int)) (Of2 binary.Cons (Var 3 sort.Val) (Of2 binary.Cons Undef (Var 6 sort.List))))) (normal (Of2 binary.Cons (Of unary.Vi (Of2 binary.Add (Var 2 sort.Int) (Number (pos 0)))) (Of2 binary.Cons (Var 3 sort.Val) (Of2 binary.Cons Undef (Var 6 sort.List))))) ≡ true
unfolding computing
pairs_107 = refl

pairs_108 : same (normal (Of2 binary.Cons (Of unary.Vi (Number (pos 5))) (Of3 ternary.Upd (Var 5 sort.List) (Var 0 sort.Int) (Of unary.Vi (Number (pos 7)))))) (normal (Of2 binary.Cons (Of unary.Vi (Of2 binary.Add (Number (pos 5)) (Number (pos 0)))) (Of3 ternary.Upd (Var 5 sort.List) (Var 0 sort.Int) (Of unary.Vi (Number (pos 7)))))) ≡ true
unfolding computing
pairs_108 = refl

pairs_109 : normal (Of2 binary.Mul (Of2 binary.Quot (Number (pos 3)) (Number (pos 7))) (Of unary.Num (Of unary.Vi (Of2 binary.Bxor (Number (pos 3)) (Var 2 sort.Int))))) ≡ (Number (pos 0))
unfolding computing
pairs_109 = refl

pairs_110 : normal (Of2 binary.Bxor (Of2 binary.Le (Of2 binary.Quot (Of2 binary.Add (Var 0 sort.Int) (Number (pos 3))) (Of2 binary.Rem (Number (pos 32)) (Var 0 sort.Int))) (Of2 binary.Rem (Of2 binary.Sub (Number (pos 5)) (Number (pos 2))) (Var 2 sort.Int))) (Of2 binary.Le (Of2 binary.Sub (Of2 binary.Sub (Number (pos 17)) (Number (pos 5))) (Of unary.Sum Nil)) (Of2 binary.Add (Of2 binary.Add (Number (pos 5)) (Number (pos 2))) (Var 2 sort.Int)))) ≡ (Of2 binary.Bxor (Of2 binary.Le (Of2 binary.Quot (Of2 binary.Add (Number (pos 3)) (Var 0 sort.Int)) (Of2 binary.Rem (Number (pos 32)) (Var 0 sort.Int))) (Of2 binary.Rem (Number (pos 3)) (Var 2 sort.Int))) (Of2 binary.Le (Number (pos 12)) (Of2 binary.Add (Number (pos 7)) (Var 2 sort.Int))))
unfolding computing
pairs_110 = refl

pairs_111 : normal (Of unary.Vi (Of2 binary.Sub (Var 2 sort.Int) (Number (pos 5)))) ≡ (Of unary.Vi (Of2 binary.Add (Number (negsuc 4)) (Var 2 sort.Int)))
unfolding computing
pairs_111 = refl

pairs_112 : normal (Of unary.Vi (Of2 binary.Bxor (Of2 binary.Eq (Of2 binary.Mul (Of2 binary.Le (Number (pos 5)) (Number (pos 17))) (Of2 binary.Lt (Number (pos 7)) (Var 1 sort.Int))) (Number (pos 23))) (Var 0 sort.Int))) ≡ (Of unary.Vi (Of2 binary.Bxor (Of2 binary.Eq (Of2 binary.Lt (Number (pos 7)) (Var 1 sort.Int)) (Number (pos 23))) (Var 0 sort.Int)))
unfolding computing
pairs_112 = refl

pairs_113 : same (normal (Of unary.Rev (Of3 ternary.Slice (Of2 binary.App (Var 5 sort.List) (Var 5 sort.List)) (Number (pos 40)) (Number (pos 3))))) (normal Nil) ≡ false
unfolding computing
pairs_113 = refl

pairs_114 : normal (Of2 binary.Off (Of2 binary.Off (Of unary.Vi (Number (pos 3))) (Of2 binary.Mul (Var 2 sort.Int) (Of2 binary.Bor (Number (pos 1)) (Number (pos 1))))) (Of unary.Unum (Of unary.Vi (Of2 binary.Eq (Number (pos 3)) (Number (pos 1)))))) ≡ (Of2 binary.Off (Of unary.Vi (Number (pos 3))) (Var 2 sort.Int))
unfolding computing
pairs_114 = refl

pairs_115 : normal (Of2 binary.Lt (Of2 binary.Bor (Of2 binary.Bxor (Number (pos 3)) (Number (pos 79))) (Of2 binary.Eq (Var 2 sort.Int) (Var 1 sort.Int))) (Number (pos 5))) ≡ (Of2 binary.Lt (Of2 binary.Bor (Number (pos 76)) (Of2 binary.Eq (Var 2 sort.Int) (Var 1 sort.Int))) (Number (pos 5)))
unfolding computing
pairs_115 = refl

pairs_116 : normal (Of2 binary.Nth (Of3 ternary.Slice (Of2 binary.App (Of2 binary.Cons (Of unary.Vi (Number (pos 2147483648))) (Of unary.Rev (Var 5 sort.List))) (Of3 ternary.Slice (Of2 binary.Cons Undef (Var 5 sort.List)) (Number (pos 1)) (Number (pos 0)))) (Of2 binary.Quot (Of unary.Unum (Of unary.Vi (Number (pos 43)))) (Of2 binary.Shl (Number (pos 7)) (Var 1 sort.Int))) (Of unary.Unum (Of2 binary.Off Undef (Var 1 sort.Int)))) (Number (pos 5))) ≡ (Of2 binary.Nth (Of3 ternary.Slice (Of2 binary.Cons (Of unary.Vi (Number (pos 2147483648))) (Of2 binary.App (Of unary.Rev (Var 5 sort.List)) (Of3 ternary.Slice (Of2 binary.Cons Undef (Var 5 sort.List)) (Number (pos 1)) (Number (pos 0))))) (Of2 binary.Quot (Number (pos 43)) (Of2 binary.Shl (Number (pos 7)) (Var 1 sort.Int))) (Of unary.Unum (Of2 binary.Off Undef (Var 1 sort.Int)))) (Number (pos 5)))
unfolding computing
pairs_116 = refl

pairs_117 : same (normal (Of2 binary.Shl (Of2 binary.Lt (Of2 binary.Shr (Number (pos 7)) (Of2 binary.Mul (Var 0 sort.Int) (Of unary.Sum Nil))) (Number (pos 3))) (Of2 binary.Add (Of2 binary.Add (Of unary.Unum (Of2 binary.Off (Var 3 sort.Val) (Number (pos 27)))) (Of2 binary.Lt (Of unary.Len (Var 5 sort.List)) (Of2 binary.Shr (Number (pos 5)) (Number (pos 5))))) (Of unary.Unum (Of2 binary.Off Undef (Var 2 sort.Int)))))) (normal (Of2 binary.Shl (Of2 binary.Lt (Of2 binary.Shr (Number (pos 7)) (Of2 binary.Mul (Var 0 sort.Int) (Of unary.Sum Nil))) (Number (pos 3))) (Of2 binary.Add (Of unary.Unum (Of2 binary.Off Undef (Var 2 sort.Int))) (Of2 binary.Add (Of2 binary.Lt (Of unary.Len (Var 5 sort.List)) (Of2 binary.Shr (Number (pos 5)) (Number (pos 5)))) (Of unary.Unum (Of2 binary.Off (Var 3 sort.Val) (Number (pos 27)))))))) ≡ true
unfolding computing
pairs_117 = refl

pairs_118 : normal (Of2 binary.Rem (Of2 binary.Mul (Number (pos 7)) (Number (pos 5))) (Of2 binary.Eq (Var 1 sort.Int) (Number (pos 5)))) ≡ (Of2 binary.Rem (Number (pos 35)) (Of2 binary.Eq (Var 1 sort.Int) (Number (pos 5))))
unfolding computing
pairs_118 = refl

pairs_119 : normal (Of2 binary.Rep (Of2 binary.Off (Of unary.Vi (Number (pos 3))) (Of unary.Unum (Of unary.Vi (Number (pos 1))))) (Of2 binary.Shl (Of unary.Sum (Var 5 sort.List)) (Of2 binary.Mul (Number (pos 1)) (Number (pos 3))))) ≡ (Of2 binary.Rep (Of2 binary.Off (Of unary.Vi (Number (pos 3))) (Number (pos 1))) (Of2 binary.Shl (Of unary.Sum (Var 5 sort.List)) (Number (pos 3))))
unfolding computing
pairs_119 = refl

pairs_120 : normal (Of2 binary.App (Of2 binary.Cons (Of2 binary.Off (Of2 binary.Off Undef (Number (pos 0))) (Of2 binary.Sub (Var 0 sort.Int) (Number (pos 2)))) (Of2 binary.Cons (Of2 binary.Off (Var 3 sort.Val) (Number (pos 5))) (Of2 binary.Cons (Of unary.Vi (Number (pos 3))) (Of3 ternary.Slice Nil (Number (pos 17)) (Number (pos 87)))))) (Of2 binary.Rep (Of2 binary.Nth Nil (Number (pos 2))) (Of2 binary.Lt (Of2 binary.Shl (Number (pos 0)) (Number (pos 15))) (Of2 binary.Rem (Number (pos 1)) (Number (pos 0)))))) ≡ (Of2 binary.Cons (Of2 binary.Off Undef (Of2 binary.Add (Number (negsuc 1)) (Var 0 sort.Int))) (Of2 binary.Cons (Of2 binary.Off (Var 3 sort.Val) (Number (pos 5))) (Of2 binary.Cons (Of unary.Vi (Number (pos 3))) (Of2 binary.App (Of3 ternary.Slice Nil (Number (pos 17)) (Number (pos 87))) Nil))))
unfolding computing
pairs_120 = refl

pairs_121 : normal (Of unary.Unum (Of2 binary.Off (Of unary.Vi (Number (pos 0))) (Of2 binary.Sub (Var 1 sort.Int) (Var 1 sort.Int)))) ≡ (Number (pos 0))
unfolding computing
pairs_121 = refl

pairs_122 : same (normal (Of2 binary.Shr (Of2 binary.Sub (Of2 binary.Mul (Of unary.Sum (Var 6 sort.List)) (Of unary.Unum (Global name_g))) (Of2 binary.Quot (Of unary.Sum (Var 6 sort.List)) (Number (pos 7)))) (Of2 binary.Eq (Number (pos 5)) (Of2 binary.Bxor (Of unary.Unum Undef) (Of unary.Unum (Global name_g)))))) (normal (Of2 binary.Shr (Of2 binary.Sub (Of2 binary.Mul (Of unary.Unum (Global name_g)) (Of unary.Sum (Var 6 sort.List))) (Of2 binary.Quot (Of unary.Sum (Var 6 sort.List)) (Number (pos 7)))) (Of2 binary.Eq (Number (pos 5)) (Of2 binary.Bxor (Number (pos 1)) (Of unary.Unum (Global name_g)))))) ≡ false
unfolding computing
pairs_122 = refl

pairs_123 : normal (Of unary.Unum (Of2 binary.Off (Of unary.Vi (Number (pos 5))) (Of2 binary.Sub (Number (pos 7)) (Of2 binary.Lt (Number (pos 7)) (Number (pos 9)))))) ≡ (Of unary.Unum (Of2 binary.Off (Of unary.Vi (Number (pos 5))) (Number (pos 6))))
unfolding computing
pairs_123 = refl

pairs_124 : normal (Of2 binary.Le (Of unary.Sum (Of3 ternary.Slice Nil (Number (pos 2)) (Var 0 sort.Int))) (Of2 binary.Add (Of2 binary.Shr (Number (pos 3)) (Number (pos 37))) (Of2 binary.Add (Number (pos 0)) (Var 2 sort.Int)))) ≡ (Of2 binary.Le (Of unary.Sum (Of3 ternary.Slice Nil (Number (pos 2)) (Var 0 sort.Int))) (Var 2 sort.Int))
unfolding computing
pairs_124 = refl

pairs_125 : normal (Of2 binary.Nth (Of2 binary.App Nil (Var 5 sort.List)) (Of unary.Unum (Var 3 sort.Val))) ≡ (Of2 binary.Nth (Var 5 sort.List) (Of unary.Unum (Var 3 sort.Val)))
unfolding computing
pairs_125 = refl

pairs_126 : normal (Of unary.Num (Of2 binary.Nth (Of3 ternary.Upd (Var 6 sort.List) (Number (pos 1)) (Of unary.Vi (Number (pos 170141183460469231731687303715884105727)))) (Number (pos 78)))) ≡ (Of unary.Num (Of2 binary.Nth (Of3 ternary.Upd (Var 6 sort.List) (Number (pos 1)) (Of unary.Vi (Number (pos 4294967295)))) (Number (pos 78))))
unfolding computing
pairs_126 = refl

pairs_127 : normal (Of unary.Vi (Of unary.Num (Of unary.Vi (Number (pos 92))))) ≡ (Of unary.Vi (Number (pos 92)))
unfolding computing
pairs_127 = refl

pairs_128 : same (normal (Of2 binary.Cons (Of unary.Vi (Number (pos 11))) (Of2 binary.App (Of2 binary.Rep (Of unary.Vi (Number (pos 7))) (Number (pos 19))) (Of3 ternary.Upd (Var 6 sort.List) (Number (pos 1)) (Of unary.Vi (Number (pos 7))))))) (normal (Of2 binary.Cons (Of unary.Vi (Number (pos 11))) (Of2 binary.App (Of2 binary.Rep (Of unary.Vi (Of2 binary.Add (Number (pos 7)) (Number (pos 0)))) (Number (pos 19))) (Of3 ternary.Upd (Var 6 sort.List) (Number (pos 1)) (Of unary.Vi (Number (pos 7))))))) ≡ true
unfolding computing
pairs_128 = refl

pairs_129 : normal (Of2 binary.Cons (Of unary.Vi (Number (pos 1))) (Of2 binary.App (Of2 binary.Cons Undef Nil) (Of2 binary.App (Var 5 sort.List) (Var 6 sort.List)))) ≡ (Of2 binary.Cons (Of unary.Vi (Number (pos 1))) (Of2 binary.Cons Undef (Of2 binary.App (Var 5 sort.List) (Var 6 sort.List))))
unfolding computing
pairs_129 = refl

pairs_130 : same (normal (Of2 binary.Bor (Of unary.Unum (Global name_g)) (Of2 binary.Sub (Var 0 sort.Int) (Var 1 sort.Int)))) (normal (Number (pos 1))) ≡ false
unfolding computing
pairs_130 = refl

pairs_131 : same (normal (Of2 binary.Mul (Of2 binary.Shl (Of unary.Sum (Var 6 sort.List)) (Of2 binary.Add (Var 0 sort.Int) (Var 1 sort.Int))) (Of2 binary.Bxor (Of unary.Unum (Var 3 sort.Val)) (Of2 binary.Le (Number (pos 1)) (Number (pos 36)))))) (normal (Of2 binary.Mul (Of2 binary.Bxor (Of unary.Unum (Var 3 sort.Val)) (Of2 binary.Le (Number (pos 1)) (Number (pos 36)))) (Of2 binary.Shl (Number (pos 1)) (Of2 binary.Sub (Var 0 sort.Int) (Of2 binary.Sub (Number (pos 0)) (Var 1 sort.Int)))))) ≡ false
unfolding computing
pairs_131 = refl

pairs_132 : normal (Of2 binary.Cons (Of unary.Vi (Of2 binary.Band (Of unary.Sum Nil) (Of2 binary.Add (Number (pos 9223372036854775813)) (Number (pos 1))))) (Of2 binary.Rep (Of2 binary.Nth (Of2 binary.Cons (Var 4 sort.Val) Nil) (Of unary.Num Undef)) (Of2 binary.Lt (Of2 binary.Sub (Number (pos 7)) (Number (pos 3))) (Of2 binary.Band (Var 0 sort.Int) (Number (pos 0)))))) ≡ (Of2 binary.Cons (Of unary.Vi (Number (pos 0))) (Of2 binary.Rep (Var 4 sort.Val) (Of2 binary.Lt (Number (pos 4)) (Of2 binary.Band (Var 0 sort.Int) (Number (pos 0))))))
unfolding computing
pairs_132 = refl

pairs_133 : normal (Of2 binary.App (Of2 binary.App (Of2 binary.Rep (Of unary.Vi (Number (pos 3))) (Of2 binary.Band (Number (pos 28)) (Number (pos 7)))) (Of2 binary.App (Of2 binary.Cons (Global name_g) (Of2 binary.App Nil Nil)) (Of2 binary.Cons (Of unary.Vi (Number (pos 55))) (Of2 binary.Rep Undef (Number (pos 5)))))) (Var 6 sort.List)) ≡ (Of2 binary.Cons (Of unary.Vi (Number (pos 3))) (Of2 binary.Cons (Of unary.Vi (Number (pos 3))) (Of2 binary.Cons (Of unary.Vi (Number (pos 3))) (Of2 binary.Cons (Of unary.Vi (Number (pos 3))) (Of2 binary.Cons (Global name_g) (Of2 binary.Cons (Of unary.Vi (Number (pos 55))) (Of2 binary.Cons Undef (Of2 binary.Cons Undef (Of2 binary.Cons Undef (Of2 binary.Cons Undef (Of2 binary.Cons Undef (Var 6 sort.List))))))))))))
unfolding computing
pairs_133 = refl

pairs_134 : normal (Of3 ternary.Upd Nil (Var 2 sort.Int) (Of unary.Vi (Of unary.Num (Of unary.Vi (Number (pos 7)))))) ≡ (Of3 ternary.Upd Nil (Var 2 sort.Int) (Of unary.Vi (Number (pos 7))))
unfolding computing
pairs_134 = refl

pairs_135 : normal (Of3 ternary.Upd (Of2 binary.Cons (Of2 binary.Nth Nil (Var 1 sort.Int)) (Of3 ternary.Upd (Of2 binary.Cons Undef (Var 5 sort.List)) (Of2 binary.Add (Var 0 sort.Int) (Number (pos 5))) (Var 3 sort.Val))) (Of2 binary.Band (Of2 binary.Lt (Of2 binary.Shl (Number (pos 7)) (Number (pos 3))) (Of2 binary.Shl (Number (pos 5)) (Var 0 sort.Int))) (Of unary.Sum (Of2 binary.App Nil (Var 6 sort.List)))) (Of unary.Vi (Of2 binary.Shr (Number (pos 7)) (Var 0 sort.Int)))) ≡ (Of3 ternary.Upd (Of2 binary.Cons (Of2 binary.Nth Nil (Var 1 sort.Int)) (Of3 ternary.Upd (Of2 binary.Cons Undef (Var 5 sort.List)) (Of2 binary.Add (Number (pos 5)) (Var 0 sort.Int)) (Var 3 sort.Val))) (Of2 binary.Band (Of2 binary.Lt (Number (pos 56)) (Of2 binary.Shl (Number (pos 5)) (Var 0 sort.Int))) (Of unary.Sum (Var 6 sort.List))) (Of unary.Vi (Of2 binary.Shr (Number (pos 7)) (Var 0 sort.Int))))
unfolding computing
pairs_135 = refl

pairs_136 : normal (Of2 binary.App (Of2 binary.Cons Undef Nil) (Of2 binary.Cons (Of unary.Vi (Number (pos 3))) (Var 5 sort.List))) ≡ (Of2 binary.Cons Undef (Of2 binary.Cons (Of unary.Vi (Number (pos 3))) (Var 5 sort.List)))
unfolding computing
pairs_136 = refl

pairs_137 : normal (Of2 binary.Shl (Of2 binary.Band (Of unary.Num (Global name_g)) (Of2 binary.Le (Var 0 sort.Int) (Number (pos 93)))) (Of unary.Sum (Of2 binary.Rep (Global name_g) (Number (pos 7))))) ≡ (Of2 binary.Shl (Of2 binary.Band (Of unary.Num (Global name_g)) (Of2 binary.Le (Var 0 sort.Int) (Number (pos 93)))) (Of unary.Sum (Of2 binary.Cons (Global name_g) (Of2 binary.Cons (Global name_g) (Of2 binary.Cons (Global name_g) (Of2 binary.Cons (Global name_g) (Of2 binary.Cons (Global name_g) (Of2 binary.Cons (Global name_g) (Of2 binary.Cons (Global name_g) Nil)))))))))
unfolding computing
pairs_137 = refl

pairs_138 : normal (Of2 binary.Le (Var 2 sort.Int) (Of unary.Sum (Of2 binary.App (Of2 binary.App Nil (Var 5 sort.List)) (Of2 binary.App (Var 5 sort.List) Nil)))) ≡ (Of2 binary.Le (Var 2 sort.Int) (Of unary.Sum (Of2 binary.App (Var 5 sort.List) (Of2 binary.App (Var 5 sort.List) Nil))))
unfolding computing
pairs_138 = refl

pairs_139 : normal (Of2 binary.App (Of2 binary.Cons (Var 4 sort.Val) (Var 5 sort.List)) (Of2 binary.Cons (Global name_g) Nil)) ≡ (Of2 binary.Cons (Var 4 sort.Val) (Of2 binary.App (Var 5 sort.List) (Of2 binary.Cons (Global name_g) Nil)))
unfolding computing
pairs_139 = refl

pairs_140 : normal (Of2 binary.Add (Number (pos 10)) (Of2 binary.Le (Of unary.Len (Var 6 sort.List)) (Of2 binary.Le (Var 1 sort.Int) (Var 2 sort.Int)))) ≡ (Of2 binary.Add (Number (pos 10)) (Of2 binary.Le (Of unary.Len (Var 6 sort.List)) (Of2 binary.Le (Var 1 sort.Int) (Var 2 sort.Int))))
unfolding computing
pairs_140 = refl

pairs_141 : normal (Of2 binary.Bor (Of2 binary.Mul (Number (pos 0)) (Of2 binary.Eq (Var 1 sort.Int) (Number (pos 5)))) (Of2 binary.Rem (Of unary.Num (Of unary.Vi (Number (pos 53)))) (Of2 binary.Sub (Number (pos 1)) (Var 1 sort.Int)))) ≡ (Of2 binary.Bor (Number (pos 0)) (Of2 binary.Rem (Number (pos 53)) (Of2 binary.Add (Number (pos 1)) (Of2 binary.Mul (Number (negsuc 0)) (Var 1 sort.Int)))))
unfolding computing
pairs_141 = refl

pairs_142 : normal (Of2 binary.Off (Of unary.Vi (Number (pos 17))) (Of2 binary.Quot (Number (pos 30)) (Of2 binary.Shl (Of unary.Len (Of3 ternary.Slice Nil (Number (pos 25)) (Number (pos 3)))) (Of2 binary.Sub (Of2 binary.Le (Var 2 sort.Int) (Var 2 sort.Int)) (Of unary.Sum Nil))))) ≡ (Of2 binary.Off (Of unary.Vi (Number (pos 17))) (Of2 binary.Quot (Number (pos 30)) (Of2 binary.Shl (Of unary.Len (Of3 ternary.Slice Nil (Number (pos 25)) (Number (pos 3)))) (Of2 binary.Le (Var 2 sort.Int) (Var 2 sort.Int)))))
unfolding computing
pairs_142 = refl

pairs_143 : same (normal (Of3 ternary.Upd (Of3 ternary.Upd (Of2 binary.Cons Undef (Var 6 sort.List)) (Var 2 sort.Int) (Var 4 sort.Val)) (Number (pos 2)) (Of unary.Vi (Number (pos 2))))) (normal (Of3 ternary.Upd (Of3 ternary.Upd (Of2 binary.Cons Undef (Var 6 sort.List)) (Var 2 sort.Int) (Var 4 sort.Val)) (Number (pos 2)) (Of unary.Vi (Of2 binary.Add (Number (pos 2)) (Number (pos 0)))))) ≡ true
unfolding computing
pairs_143 = refl

pairs_144 : same (normal (Of2 binary.Bxor (Of2 binary.Add (Of2 binary.Band (Of2 binary.Mul (Of2 binary.Band (Number (pos 74)) (Var 2 sort.Int)) (Of2 binary.Add (Number (pos 2)) (Var 1 sort.Int))) (Var 2 sort.Int)) (Of2 binary.Bor (Of unary.Unum (Of2 binary.Nth (Var 5 sort.List) (Number (pos 4294967296)))) (Of2 binary.Mul (Of unary.Num (Var 3 sort.Val)) (Of2 binary.Band (Var 0 sort.Int) (Number (pos 3)))))) (Of2 binary.Add (Of2 binary.Shl (Of unary.Num (Of2 binary.Off (Of unary.Vi (Number (pos 7))) (Var 0 sort.Int))) (Var 1 sort.Int)) (Of unary.Num (Of2 binary.Nth (Of2 binary.App (Var 6 sort.List) (Var 6 sort.List)) (Of2 binary.Lt (Number (pos 74)) (Number (pos 34)))))))) (normal (Of2 binary.Bxor (Of2 binary.Add (Of2 binary.Bor (Of unary.Unum (Of2 binary.Nth (Var 5 sort.List) (Number (pos 4294967296)))) (Of2 binary.Mul (Of2 binary.Band (Var 0 sort.Int) (Number (pos 3))) (Of unary.Num (Var 3 sort.Val)))) (Of2 binary.Band (Of2 binary.Mul (Of2 binary.Sub (Number (pos 2)) (Of2 binary.Sub (Number (pos 0)) (Var 1 sort.Int))) (Of2 binary.Band (Number (pos 74)) (Var 2 sort.Int))) (Var 2 sort.Int))) (Of2 binary.Sub (Of2 binary.Shl (Of unary.Num (Of2 binary.Off (Of unary.Vi (Of2 binary.Add (Number (pos 7)) (Number (pos 0)))) (Var 0 sort.Int))) (Var 1 sort.Int)) (Of2 binary.Sub (Number (pos 0)) (Of unary.Num (Of2 binary.Nth (Of2 binary.App (Var 6 sort.List) (Var 6 sort.List)) (Of2 binary.Lt (Number (pos 74)) (Number (pos 34))))))))) ≡ true
unfolding computing
pairs_144 = refl

pairs_145 : same (normal (Of2 binary.Add (Of2 binary.Eq (Var 0 sort.Int) (Of2 binary.Band (Number (pos 2)) (Number (pos 5)))) (Of unary.Sum (Of2 binary.Cons (Of unary.Vi (Number (pos 0))) (Var 6 sort.List))))) (normal (Of2 binary.Add (Of unary.Sum (Of2 binary.Cons (Of unary.Vi (Of2 binary.Add (Number (pos 0)) (Number (pos 0)))) (Var 6 sort.List))) (Number (pos 1)))) ≡ false
unfolding computing
pairs_145 = refl

pairs_146 : normal (Of unary.Num (Of2 binary.Off Undef (Of2 binary.Shl (Of2 binary.Shr (Number (pos 2)) (Number (pos 7))) (Of2 binary.Bor (Number (pos 2)) (Number (pos 0)))))) ≡ (Number (pos 0))
unfolding computing
pairs_146 = refl

pairs_147 : same (normal (Of unary.Rev (Of2 binary.Cons (Of unary.Vi (Number (pos 1))) Nil))) (normal (Of unary.Rev (Of2 binary.Cons (Of unary.Vi (Of2 binary.Add (Number (pos 1)) (Number (pos 0)))) Nil))) ≡ true
unfolding computing
pairs_147 = refl

pairs_148 : normal (Of2 binary.App (Of3 ternary.Upd (Of2 binary.App Nil Nil) (Var 2 sort.Int) (Var 3 sort.Val)) (Of2 binary.App (Of2 binary.App (Var 6 sort.List) (Var 5 sort.List)) (Of unary.Rev Nil))) ≡ (Of2 binary.App (Of3 ternary.Upd Nil (Var 2 sort.Int) (Var 3 sort.Val)) (Of2 binary.App (Of2 binary.App (Var 6 sort.List) (Var 5 sort.List)) Nil))
unfolding computing
pairs_148 = refl

pairs_149 : normal (Of unary.Vi (Of2 binary.Add (Number (pos 7)) (Number (pos 7)))) ≡ (Of unary.Vi (Number (pos 14)))
unfolding computing
pairs_149 = refl

pairs_150 : same (normal (Of2 binary.Off (Of2 binary.Off (Of2 binary.Off (Of2 binary.Nth (Of2 binary.Cons (Var 3 sort.Val) Nil) (Of2 binary.Quot (Number (pos 38)) (Var 1 sort.Int))) (Of2 binary.Add (Number (pos 7)) (Of2 binary.Shr (Var 2 sort.Int) (Number (pos 0))))) (Of unary.Num (Of2 binary.Off (Of2 binary.Nth Nil (Number (pos 5))) (Of unary.Unum Undef)))) (Number (pos 5)))) (normal (Of2 binary.Off (Of2 binary.Off (Of2 binary.Off (Of2 binary.Nth (Of2 binary.Cons (Var 3 sort.Val) Nil) (Of2 binary.Quot (Number (pos 38)) (Var 1 sort.Int))) (Of2 binary.Add (Of2 binary.Shr (Var 2 sort.Int) (Number (pos 0))) (Number (pos 7)))) (Of unary.Num (Of2 binary.Off (Of2 binary.Nth Nil (Number (pos 5))) (Of unary.Unum Undef)))) (Number (pos 5)))) ≡ true
unfolding computing
pairs_150 = refl

pairs_151 : normal (Of unary.Vi (Of2 binary.Quot (Of unary.Sum (Of2 binary.Cons (Global name_g) Nil)) (Of2 binary.Shl (Of2 binary.Sub (Number (pos 34)) (Number (pos 3))) (Of2 binary.Sub (Number (pos 1)) (Number (pos 7)))))) ≡ (Of unary.Vi (Of2 binary.Quot (Of unary.Sum (Of2 binary.Cons (Global name_g) Nil)) (Number (pos 0))))
unfolding computing
pairs_151 = refl

pairs_152 : same (normal (Of unary.Vi (Of2 binary.Shr (Of unary.Num (Of unary.Vi (Var 1 sort.Int))) (Of unary.Num (Global name_g))))) (normal (Of unary.Vi (Of2 binary.Add (Of2 binary.Shr (Of unary.Num (Of unary.Vi (Of2 binary.Add (Var 1 sort.Int) (Number (pos 0))))) (Of unary.Num (Global name_g))) (Number (pos 0))))) ≡ true
unfolding computing
pairs_152 = refl

pairs_153 : normal (Of2 binary.Rem (Of unary.Sum (Of2 binary.Cons (Of2 binary.Off (Global name_g) (Number (pos 91))) (Of2 binary.Cons (Of unary.Vi (Number (pos 7))) (Of2 binary.Rep (Var 3 sort.Val) (Number (pos 0)))))) (Number (pos 0))) ≡ (Of2 binary.Rem (Of unary.Sum (Of2 binary.Cons (Of2 binary.Off (Global name_g) (Number (pos 91))) (Of2 binary.Cons (Of unary.Vi (Number (pos 7))) Nil))) (Number (pos 0)))
unfolding computing
pairs_153 = refl

pairs_154 : normal (Of2 binary.Cons (Of unary.Vi (Number (pos 92))) (Of2 binary.Rep (Of unary.Vi (Number (pos 7))) (Number (pos 9)))) ≡ (Of2 binary.Cons (Of unary.Vi (Number (pos 92))) (Of2 binary.Cons (Of unary.Vi (Number (pos 7))) (Of2 binary.Cons (Of unary.Vi (Number (pos 7))) (Of2 binary.Cons (Of unary.Vi (Number (pos 7))) (Of2 binary.Cons (Of unary.Vi (Number (pos 7))) (Of2 binary.Cons (Of unary.Vi (Number (pos 7))) (Of2 binary.Cons (Of unary.Vi (Number (pos 7))) (Of2 binary.Cons (Of unary.Vi (Number (pos 7))) (Of2 binary.Cons (Of unary.Vi (Number (pos 7))) (Of2 binary.Cons (Of unary.Vi (Number (pos 7))) Nil))))))))))
unfolding computing
pairs_154 = refl

pairs_155 : normal (Of2 binary.Le (Of2 binary.Eq (Number (pos 2)) (Of unary.Num Undef)) (Of2 binary.Mul (Of2 binary.Mul (Number (pos 3)) (Number (pos 4294967296))) (Of2 binary.Shl (Number (pos 0)) (Number (pos 5))))) ≡ (Number (pos 1))
unfolding computing
pairs_155 = refl

pairs_156 : normal (Of2 binary.Off (Of2 binary.Nth (Of3 ternary.Upd (Of3 ternary.Slice (Var 5 sort.List) (Number (pos 18446744073709551616)) (Number (pos 5))) (Number (pos 2)) (Of2 binary.Off (Var 3 sort.Val) (Var 0 sort.Int))) (Of unary.Unum (Of unary.Vi (Number (pos 0))))) (Var 1 sort.Int)) ≡ (Of2 binary.Off (Of2 binary.Nth (Of3 ternary.Upd (Of3 ternary.Slice (Var 5 sort.List) (Number (pos 18446744073709551616)) (Number (pos 5))) (Number (pos 2)) (Of2 binary.Off (Var 3 sort.Val) (Var 0 sort.Int))) (Number (pos 0))) (Var 1 sort.Int))
unfolding computing
pairs_156 = refl

pairs_157 : normal (Of2 binary.Rem (Of2 binary.Add (Number (pos 1)) (Number (pos 7))) (Of2 binary.Mul (Number (pos 2)) (Var 2 sort.Int))) ≡ (Of2 binary.Rem (Number (pos 8)) (Of2 binary.Mul (Number (pos 2)) (Var 2 sort.Int)))
unfolding computing
pairs_157 = refl

pairs_158 : normal (Of2 binary.Add (Number (pos 3)) (Var 1 sort.Int)) ≡ (Of2 binary.Add (Number (pos 3)) (Var 1 sort.Int))
unfolding computing
pairs_158 = refl

pairs_159 : normal (Of unary.Vi (Of2 binary.Shl (Of unary.Len (Var 6 sort.List)) (Of2 binary.Add (Number (pos 1)) (Var 0 sort.Int)))) ≡ (Of unary.Vi (Of2 binary.Shl (Of unary.Len (Var 6 sort.List)) (Of2 binary.Add (Number (pos 1)) (Var 0 sort.Int))))
unfolding computing
pairs_159 = refl

pairs_160 : normal (Of3 ternary.Slice (Of2 binary.Cons (Of2 binary.Off (Global name_g) (Var 1 sort.Int)) (Of2 binary.App (Of2 binary.App Nil (Var 5 sort.List)) (Of2 binary.Rep (Of unary.Vi (Number (pos 36))) (Number (pos 5))))) (Of2 binary.Add (Number (pos 5)) (Of2 binary.Bxor (Number (pos 3)) (Var 0 sort.Int))) (Of2 binary.Mul (Of2 binary.Sub (Var 0 sort.Int) (Number (pos 7))) (Of2 binary.Add (Number (pos 1)) (Number (pos 2))))) ≡ (Of3 ternary.Slice (Of2 binary.Cons (Of2 binary.Off (Global name_g) (Var 1 sort.Int)) (Of2 binary.App (Var 5 sort.List) (Of2 binary.Cons (Of unary.Vi (Number (pos 36))) (Of2 binary.Cons (Of unary.Vi (Number (pos 36))) (Of2 binary.Cons (Of unary.Vi (Number (pos 36))) (Of2 binary.Cons (Of unary.Vi (Number (pos 36))) (Of2 binary.Cons (Of unary.Vi (Number (pos 36))) Nil))))))) (Of2 binary.Add (Number (pos 5)) (Of2 binary.Bxor (Number (pos 3)) (Var 0 sort.Int))) (Of2 binary.Add (Number (negsuc 20)) (Of2 binary.Mul (Number (pos 3)) (Var 0 sort.Int))))
unfolding computing
pairs_160 = refl

pairs_161 : normal (Of2 binary.Nth (Of2 binary.App Nil (Of unary.Rev Nil)) (Of unary.Unum Undef)) ≡ (Of2 binary.Nth Nil (Number (pos 0)))
unfolding computing
pairs_161 = refl

pairs_162 : same (normal (Of unary.Vi (Number (pos 2)))) (normal (Of unary.Vi (Of2 binary.Add (Number (pos 2)) (Number (pos 0))))) ≡ true
unfolding computing
pairs_162 = refl

pairs_163 : normal (Of2 binary.Nth (Of3 ternary.Upd (Of2 binary.Cons Undef Nil) (Number (pos 16)) (Of unary.Vi (Number (pos 5)))) (Of2 binary.Quot (Number (pos 5)) (Number (pos 2)))) ≡ (Of2 binary.Nth (Of3 ternary.Upd Nil (Number (pos 15)) (Of unary.Vi (Number (pos 5)))) (Number (pos 1)))
unfolding computing
pairs_163 = refl

pairs_164 : normal (Of2 binary.Nth (Of3 ternary.Slice (Of2 binary.Cons (Of2 binary.Nth (Var 5 sort.List) (Number (pos 1))) (Of3 ternary.Upd (Of3 ternary.Slice (Var 6 sort.List) (Number (pos 5)) (Number (pos 3))) (Of2 binary.Add (Number (pos 13)) (Number (pos 96))) (Var 4 sort.Val))) (Of2 binary.Rem (Of unary.Num (Var 4 sort.Val)) (Of2 binary.Mul (Number (pos 1)) (Var 2 sort.Int))) (Of2 binary.Add (Of2 binary.Add (Var 1 sort.Int) (Var 1 sort.Int)) (Of2 binary.Mul (Var 1 sort.Int) (Number (pos 1))))) (Of2 binary.Quot (Var 2 sort.Int) (Number (pos 5)))) ≡ (Of2 binary.Nth (Of3 ternary.Slice (Of2 binary.Cons (Of2 binary.Nth (Var 5 sort.List) (Number (pos 1))) (Of3 ternary.Upd (Of3 ternary.Slice (Var 6 sort.List) (Number (pos 5)) (Number (pos 3))) (Number (pos 109)) (Var 4 sort.Val))) (Of2 binary.Rem (Of unary.Num (Var 4 sort.Val)) (Var 2 sort.Int)) (Of2 binary.Mul (Number (pos 3)) (Var 1 sort.Int))) (Of2 binary.Quot (Var 2 sort.Int) (Number (pos 5))))
unfolding computing
pairs_164 = refl

pairs_165 : normal (Of2 binary.Nth (Of2 binary.Rep (Var 3 sort.Val) (Var 2 sort.Int)) (Of2 binary.Band (Number (pos 2)) (Number (pos 7)))) ≡ (Of2 binary.Nth (Of2 binary.Rep (Var 3 sort.Val) (Var 2 sort.Int)) (Number (pos 2)))
unfolding computing
pairs_165 = refl

pairs_166 : normal (Of2 binary.Nth (Of2 binary.Cons (Of unary.Vi (Number (pos 2))) (Of2 binary.Rep (Var 3 sort.Val) (Number (pos 14)))) (Of unary.Num (Of unary.Vi (Number (pos 0))))) ≡ (Of unary.Vi (Number (pos 2)))
unfolding computing
pairs_166 = refl

pairs_167 : normal (Of unary.Len (Of2 binary.Cons (Var 4 sort.Val) (Var 6 sort.List))) ≡ (Of2 binary.Add (Number (pos 1)) (Of unary.Len (Var 6 sort.List)))
unfolding computing
pairs_167 = refl

pairs_168 : normal (Of2 binary.Off (Of unary.Vi (Of2 binary.Mul (Of unary.Num (Global name_g)) (Of unary.Sum Nil))) (Number (pos 3))) ≡ (Of2 binary.Off (Of unary.Vi (Number (pos 0))) (Number (pos 3)))
unfolding computing
pairs_168 = refl

pairs_169 : normal (Of unary.Num (Of unary.Vi (Number (pos 3)))) ≡ (Number (pos 3))
unfolding computing
pairs_169 = refl

pairs_170 : normal (Of2 binary.Shl (Of2 binary.Mul (Var 0 sort.Int) (Of unary.Num (Of unary.Vi (Number (pos 5))))) (Of2 binary.Bor (Of2 binary.Sub (Number (pos 0)) (Number (pos 5))) (Of2 binary.Add (Number (pos 75)) (Var 1 sort.Int)))) ≡ (Of2 binary.Shl (Of2 binary.Mul (Number (pos 5)) (Var 0 sort.Int)) (Of2 binary.Bor (Number (negsuc 4)) (Of2 binary.Add (Number (pos 75)) (Var 1 sort.Int))))
unfolding computing
pairs_170 = refl

pairs_171 : normal (Of2 binary.Rep (Of unary.Vi (Number (pos 7))) (Number (pos 5))) ≡ (Of2 binary.Cons (Of unary.Vi (Number (pos 7))) (Of2 binary.Cons (Of unary.Vi (Number (pos 7))) (Of2 binary.Cons (Of unary.Vi (Number (pos 7))) (Of2 binary.Cons (Of unary.Vi (Number (pos 7))) (Of2 binary.Cons (Of unary.Vi (Number (pos 7))) Nil)))))
unfolding computing
pairs_171 = refl

pairs_172 : normal (Of2 binary.Cons (Of2 binary.Nth (Var 5 sort.List) (Var 1 sort.Int)) (Of2 binary.App (Of2 binary.App Nil Nil) (Of2 binary.Cons (Of unary.Vi (Number (pos 62))) (Var 6 sort.List)))) ≡ (Of2 binary.Cons (Of2 binary.Nth (Var 5 sort.List) (Var 1 sort.Int)) (Of2 binary.Cons (Of unary.Vi (Number (pos 62))) (Var 6 sort.List)))
unfolding computing
pairs_172 = refl

pairs_173 : normal (Of unary.Len Nil) ≡ (Number (pos 0))
unfolding computing
pairs_173 = refl

pairs_174 : same (normal (Of3 ternary.Upd (Of3 ternary.Upd (Of2 binary.App (Var 5 sort.List) (Of unary.Rev (Of unary.Rev (Var 6 sort.List)))) (Var 2 sort.Int) (Of2 binary.Nth (Of2 binary.Cons Undef (Var 5 sort.List)) (Of2 binary.Eq (Number (pos 62)) (Var 0 sort.Int)))) (Of2 binary.Add (Of2 binary.Sub (Of2 binary.Sub (Of2 binary.Bor (Var 2 sort.Int) (Var 2 sort.Int)) (Of2 binary.Add (Var 2 sort.Int) (Number (pos 3)))) (Of2 binary.Bxor (Of2 binary.Quot (Number (pos 1)) (Var 2 sort.Int)) (Number (pos 2)))) (Of2 binary.Rem (Number (pos 1)) (Var 1 sort.Int))) (Of2 binary.Off (Of2 binary.Off (Of unary.Vi (Number (pos 45))) (Of2 binary.Add (Number (pos 5)) (Number (pos 0)))) (Of unary.Unum (Of unary.Vi (Number (pos 0))))))) (normal (Of3 ternary.Upd (Of3 ternary.Upd (Of2 binary.App (Var 5 sort.List) (Of unary.Rev (Of unary.Rev (Var 6 sort.List)))) (Var 2 sort.Int) (Of2 binary.Nth (Of2 binary.Cons Undef (Var 5 sort.List)) (Of2 binary.Eq (Number (pos 62)) (Var 0 sort.Int)))) (Of2 binary.Add (Number (pos 1)) (Of2 binary.Rem (Number (pos 1)) (Var 1 sort.Int))) (Of2 binary.Off (Of2 binary.Off (Of unary.Vi (Number (pos 45))) (Of2 binary.Add (Number (pos 0)) (Number (pos 5)))) (Of unary.Unum (Of unary.Vi (Number (pos 0))))))) ≡ false
unfolding computing
pairs_174 = refl

pairs_175 : normal (Of2 binary.App (Of2 binary.App (Of3 ternary.Slice (Var 6 sort.List) (Number (pos 0)) (Number (pos 2))) (Of unary.Rev Nil)) (Of2 binary.Cons Undef (Of2 binary.Rep (Of unary.Vi (Number (pos 9223372036854775813))) (Number (pos 0))))) ≡ (Of2 binary.App (Of2 binary.App (Of3 ternary.Slice (Var 6 sort.List) (Number (pos 0)) (Number (pos 2))) Nil) (Of2 binary.Cons Undef Nil))
unfolding computing
pairs_175 = refl

pairs_176 : same (normal (Of unary.Vi (Of2 binary.Eq (Of2 binary.Le (Var 1 sort.Int) (Of unary.Num (Of unary.Vi (Var 2 sort.Int)))) (Var 0 sort.Int)))) (normal (Of unary.Vi (Of2 binary.Add (Of2 binary.Eq (Of2 binary.Le (Var 1 sort.Int) (Of unary.Num (Of unary.Vi (Var 2 sort.Int)))) (Var 0 sort.Int)) (Number (pos 0))))) ≡ true
unfolding computing
pairs_176 = refl

pairs_177 : same (normal (Of2 binary.Off (Of unary.Vi (Number (pos 2147483648))) (Var 2 sort.Int))) (normal (Of2 binary.Off (Of unary.Vi (Of2 binary.Add (Number (pos 2147483648)) (Number (pos 0)))) (Var 2 sort.Int))) ≡ true
unfolding computing
pairs_177 = refl

pairs_178 : normal (Of2 binary.Rep (Var 3 sort.Val) (Number (pos 2))) ≡ (Of2 binary.Cons (Var 3 sort.Val) (Of2 binary.Cons (Var 3 sort.Val) Nil))
unfolding computing
pairs_178 = refl

pairs_179 : normal (Of2 binary.App (Of3 ternary.Upd (Of unary.Rev (Of2 binary.App (Of unary.Rev (Var 6 sort.List)) (Var 5 sort.List))) (Number (pos 9223372036854775813)) (Of2 binary.Nth (Of2 binary.Cons (Var 3 sort.Val) Nil) (Of unary.Num (Global name_g)))) (Of unary.Rev (Of2 binary.Cons (Of2 binary.Off (Global name_g) (Var 2 sort.Int)) (Of2 binary.App (Of2 binary.Rep Undef (Number (pos 5))) (Of unary.Rev (Var 6 sort.List)))))) ≡ (Of2 binary.App (Of3 ternary.Upd (Of unary.Rev (Of2 binary.App (Of unary.Rev (Var 6 sort.List)) (Var 5 sort.List))) (Number (pos 9223372036854775813)) (Of2 binary.Nth (Of2 binary.Cons (Var 3 sort.Val) Nil) (Of unary.Num (Global name_g)))) (Of unary.Rev (Of2 binary.Cons (Of2 binary.Off (Global name_g) (Var 2 sort.Int)) (Of2 binary.Cons Undef (Of2 binary.Cons Undef (Of2 binary.Cons Undef (Of2 binary.Cons Undef (Of2 binary.Cons Undef (Of unary.Rev (Var 6 sort.List))))))))))
unfolding computing
pairs_179 = refl

pairs_180 : normal (Of2 binary.Cons (Of2 binary.Off (Of2 binary.Nth Nil (Var 2 sort.Int)) (Of2 binary.Sub (Number (pos 7)) (Var 2 sort.Int))) Nil) ≡ (Of2 binary.Cons (Of2 binary.Off (Of2 binary.Nth Nil (Var 2 sort.Int)) (Of2 binary.Add (Number (pos 7)) (Of2 binary.Mul (Number (negsuc 0)) (Var 2 sort.Int)))) Nil)
unfolding computing
pairs_180 = refl

pairs_181 : normal (Of3 ternary.Upd (Of3 ternary.Upd (Var 6 sort.List) (Number (pos 5)) Undef) (Of2 binary.Mul (Number (pos 0)) (Number (pos 0))) (Var 3 sort.Val)) ≡ (Of3 ternary.Upd (Of3 ternary.Upd (Var 6 sort.List) (Number (pos 5)) Undef) (Number (pos 0)) (Var 3 sort.Val))
unfolding computing
pairs_181 = refl

pairs_182 : same (normal (Of2 binary.Mul (Of unary.Unum (Of2 binary.Off (Of2 binary.Nth (Of2 binary.Rep (Var 4 sort.Val) (Number (pos 3))) (Of unary.Sum Nil)) (Of2 binary.Lt (Of unary.Num Undef) (Of2 binary.Bor (Var 2 sort.Int) (Number (pos 0)))))) (Of2 binary.Rem (Of unary.Num (Of2 binary.Off (Of2 binary.Nth Nil (Var 0 sort.Int)) (Of unary.Num Undef))) (Of2 binary.Add (Number (pos 2)) (Of unary.Len (Of3 ternary.Upd (Var 6 sort.List) (Number (pos 5)) Undef)))))) (normal (Of2 binary.Mul (Of2 binary.Rem (Of unary.Num (Of2 binary.Off (Of2 binary.Nth Nil (Var 0 sort.Int)) (Of unary.Num Undef))) (Of2 binary.Add (Of unary.Len (Of3 ternary.Upd (Var 6 sort.List) (Number (pos 5)) Undef)) (Number (pos 2)))) (Of unary.Unum (Of2 binary.Off (Of2 binary.Nth (Of2 binary.Rep (Var 4 sort.Val) (Number (pos 3))) (Of unary.Sum Nil)) (Of2 binary.Lt (Of unary.Num Undef) (Of2 binary.Bor (Var 2 sort.Int) (Number (pos 0)))))))) ≡ true
unfolding computing
pairs_182 = refl

pairs_183 : normal (Of2 binary.Add (Number (pos 0)) (Of2 binary.Sub (Of2 binary.Band (Number (pos 3)) (Var 2 sort.Int)) (Of2 binary.Sub (Number (pos 3)) (Number (pos 4294967296))))) ≡ (Of2 binary.Add (Number (pos 4294967293)) (Of2 binary.Band (Number (pos 3)) (Var 2 sort.Int)))
unfolding computing
pairs_183 = refl

pairs_184 : same (normal (Of unary.Unum (Of2 binary.Nth (Of2 binary.App (Var 6 sort.List) Nil) (Of2 binary.Mul (Number (pos 2)) (Var 0 sort.Int))))) (normal (Of unary.Unum (Of2 binary.Nth (Of2 binary.App (Var 6 sort.List) Nil) (Of2 binary.Mul (Var 0 sort.Int) (Number (pos 2)))))) ≡ true
unfolding computing
pairs_184 = refl

pairs_185 : normal (Of3 ternary.Upd (Of3 ternary.Slice (Of2 binary.Cons (Of2 binary.Off (Global name_g) (Number (pos 4294967296))) (Of2 binary.Cons (Of unary.Vi (Number (pos 1))) (Of2 binary.App Nil Nil))) (Of2 binary.Lt (Of2 binary.Eq (Var 1 sort.Int) (Number (pos 9223372036854775813))) (Of unary.Sum (Var 6 sort.List))) (Of2 binary.Bor (Of2 binary.Shl (Number (pos 72)) (Number (pos 1))) (Of2 binary.Mul (Number (pos 3)) (Number (pos 17))))) (Var 0 sort.Int) Undef) ≡ (Of3 ternary.Upd (Of3 ternary.Slice (Of2 binary.Cons (Of2 binary.Off (Global name_g) (Number (pos 4294967296))) (Of2 binary.Cons (Of unary.Vi (Number (pos 1))) Nil)) (Of2 binary.Lt (Of2 binary.Eq (Var 1 sort.Int) (Number (pos 9223372036854775813))) (Of unary.Sum (Var 6 sort.List))) (Number (pos 179))) (Var 0 sort.Int) Undef)
unfolding computing
pairs_185 = refl

pairs_186 : normal (Of2 binary.Eq (Of2 binary.Sub (Number (pos 7)) (Of2 binary.Bxor (Var 1 sort.Int) (Number (pos 3)))) (Of unary.Num (Of unary.Vi (Number (pos 5))))) ≡ (Of2 binary.Eq (Of2 binary.Add (Number (pos 7)) (Of2 binary.Mul (Number (negsuc 0)) (Of2 binary.Bxor (Var 1 sort.Int) (Number (pos 3))))) (Number (pos 5)))
unfolding computing
pairs_186 = refl

pairs_187 : normal (Of unary.Rev (Of2 binary.Rep (Of2 binary.Off (Var 3 sort.Val) (Number (pos 7))) (Number (pos 3)))) ≡ (Of unary.Rev (Of2 binary.Cons (Of2 binary.Off (Var 3 sort.Val) (Number (pos 7))) (Of2 binary.Cons (Of2 binary.Off (Var 3 sort.Val) (Number (pos 7))) (Of2 binary.Cons (Of2 binary.Off (Var 3 sort.Val) (Number (pos 7))) Nil))))
unfolding computing
pairs_187 = refl

pairs_188 : same (normal (Of2 binary.Cons (Of2 binary.Off (Global name_g) (Of unary.Sum (Of2 binary.Cons (Var 4 sort.Val) (Var 6 sort.List)))) (Of3 ternary.Upd (Of3 ternary.Upd (Of2 binary.Cons (Global name_g) (Of2 binary.Cons Undef (Var 5 sort.List))) (Of2 binary.Le (Of2 binary.Bor (Var 0 sort.Int) (Var 2 sort.Int)) (Of2 binary.Shl (Number (pos 0)) (Number (pos 1)))) (Of unary.Vi (Number (pos 1)))) (Of2 binary.Add (Of unary.Num (Of2 binary.Nth (Var 6 sort.List) (Number (pos 71)))) (Of2 binary.Band (Var 1 sort.Int) (Of unary.Num (Global name_g)))) (Of unary.Vi (Number (pos 50)))))) (normal (Of2 binary.Cons (Of2 binary.Off (Global name_g) (Of unary.Sum (Of2 binary.Cons (Var 4 sort.Val) (Var 6 sort.List)))) (Of3 ternary.Upd (Of3 ternary.Upd (Of2 binary.Cons (Global name_g) (Of2 binary.Cons Undef (Var 5 sort.List))) (Of2 binary.Le (Of2 binary.Bor (Var 0 sort.Int) (Var 2 sort.Int)) (Of2 binary.Shl (Number (pos 0)) (Number (pos 1)))) (Of unary.Vi (Number (pos 1)))) (Of2 binary.Add (Of unary.Num (Of2 binary.Nth (Var 6 sort.List) (Number (pos 71)))) (Of2 binary.Band (Var 1 sort.Int) (Of unary.Num (Global name_g)))) (Of unary.Vi (Of2 binary.Add (Number (pos 50)) (Number (pos 0))))))) ≡ true
unfolding computing
pairs_188 = refl

pairs_189 : normal (Of3 ternary.Slice (Var 6 sort.List) (Number (pos 2)) (Of2 binary.Eq (Of unary.Sum Nil) (Of2 binary.Band (Number (pos 1)) (Number (pos 16))))) ≡ (Of3 ternary.Slice (Var 6 sort.List) (Number (pos 2)) (Number (pos 1)))
unfolding computing
pairs_189 = refl

pairs_190 : normal (Of2 binary.Cons (Of unary.Vi (Of2 binary.Bxor (Of2 binary.Bor (Var 0 sort.Int) (Var 1 sort.Int)) (Of2 binary.Eq (Number (pos 7)) (Var 2 sort.Int)))) (Of2 binary.App (Of2 binary.Rep (Of unary.Vi (Number (pos 0))) (Of2 binary.Eq (Number (pos 23)) (Number (pos 0)))) (Of2 binary.Rep Undef (Number (pos 12))))) ≡ (Of2 binary.Cons (Of unary.Vi (Of2 binary.Bxor (Of2 binary.Bor (Var 0 sort.Int) (Var 1 sort.Int)) (Of2 binary.Eq (Number (pos 7)) (Var 2 sort.Int)))) (Of2 binary.Cons Undef (Of2 binary.Cons Undef (Of2 binary.Cons Undef (Of2 binary.Cons Undef (Of2 binary.Cons Undef (Of2 binary.Cons Undef (Of2 binary.Cons Undef (Of2 binary.Cons Undef (Of2 binary.Cons Undef (Of2 binary.Cons Undef (Of2 binary.Cons Undef (Of2 binary.Cons Undef Nil)))))))))))))
unfolding computing
pairs_190 = refl

pairs_191 : normal (Of unary.Vi (Of2 binary.Bor (Of2 binary.Sub (Of2 binary.Add (Number (pos 1)) (Number (pos 85070591730234615865843651857942052864))) (Of2 binary.Rem (Number (pos 0)) (Number (pos 3)))) (Of unary.Num (Of2 binary.Off Undef (Number (pos 56)))))) ≡ (Of unary.Vi (Of2 binary.Bor (Number (pos 85070591730234615865843651857942052865)) (Of unary.Num (Of2 binary.Off Undef (Number (pos 56))))))
unfolding computing
pairs_191 = refl

pairs_192 : normal (Of unary.Vi (Of2 binary.Shl (Of2 binary.Bor (Of2 binary.Eq (Number (pos 5)) (Number (pos 81))) (Of unary.Num Undef)) (Var 1 sort.Int))) ≡ (Of unary.Vi (Of2 binary.Shl (Number (pos 0)) (Var 1 sort.Int)))
unfolding computing
pairs_192 = refl

pairs_193 : normal (Of2 binary.Rep (Of2 binary.Nth (Var 5 sort.List) (Number (pos 87))) (Number (pos 4))) ≡ (Of2 binary.Cons (Of2 binary.Nth (Var 5 sort.List) (Number (pos 87))) (Of2 binary.Cons (Of2 binary.Nth (Var 5 sort.List) (Number (pos 87))) (Of2 binary.Cons (Of2 binary.Nth (Var 5 sort.List) (Number (pos 87))) (Of2 binary.Cons (Of2 binary.Nth (Var 5 sort.List) (Number (pos 87))) Nil))))
unfolding computing
pairs_193 = refl

pairs_194 : same (normal (Of2 binary.Add (Of2 binary.Sub (Of2 binary.Le (Number (pos 10)) (Number (pos 2147483648))) (Of2 binary.Mul (Number (pos 85070591730234615865843651857942052864)) (Number (pos 18446744073709551616)))) (Of2 binary.Le (Of2 binary.Bor (Number (pos 5)) (Number (pos 2))) (Of2 binary.Lt (Number (pos 4294967296)) (Var 0 sort.Int))))) (normal (Of2 binary.Add (Of2 binary.Sub (Of2 binary.Le (Number (pos 10)) (Number (pos 2147483648))) (Of2 binary.Mul (Number (pos 18446744073709551616)) (Number (pos 85070591730234615865843651857942052864)))) (Of2 binary.Le (Of2 binary.Bor (Number (pos 5)) (Number (pos 2))) (Of2 binary.Lt (Number (pos 4294967296)) (Var 0 sort.Int))))) ≡ false
unfolding computing
pairs_194 = refl

pairs_195 : same (normal (Of2 binary.Add (Of2 binary.Sub (Number (pos 1)) (Of2 binary.Band (Var 1 sort.Int) (Of unary.Len (Of unary.Rev (Var 5 sort.List))))) (Var 0 sort.Int))) (normal (Of2 binary.Sub (Of2 binary.Sub (Number (pos 1)) (Of2 binary.Band (Var 1 sort.Int) (Of unary.Len (Of unary.Rev (Var 5 sort.List))))) (Of2 binary.Sub (Number (pos 0)) (Var 0 sort.Int)))) ≡ true
unfolding computing
pairs_195 = refl

pairs_196 : normal (Of2 binary.Nth (Of unary.Rev Nil) (Of unary.Unum (Var 4 sort.Val))) ≡ (Of2 binary.Nth Nil (Of unary.Unum (Var 4 sort.Val)))
unfolding computing
pairs_196 = refl

pairs_197 : normal (Of2 binary.Cons (Of unary.Vi (Number (pos 1))) (Of2 binary.App Nil Nil)) ≡ (Of2 binary.Cons (Of unary.Vi (Number (pos 1))) Nil)
unfolding computing
pairs_197 = refl

pairs_198 : normal (Of unary.Unum (Of2 binary.Off (Of2 binary.Nth (Of2 binary.Cons (Global name_g) (Of3 ternary.Upd Nil (Number (pos 5)) (Global name_g))) (Of2 binary.Mul (Number (pos 7)) (Number (pos 5)))) (Of2 binary.Shl (Of unary.Len (Of2 binary.App Nil Nil)) (Number (pos 5))))) ≡ (Of unary.Unum (Of2 binary.Nth (Of3 ternary.Upd Nil (Number (pos 5)) (Global name_g)) (Number (pos 34))))
unfolding computing
pairs_198 = refl

pairs_199 : normal (Of2 binary.App (Of2 binary.Cons Undef (Of2 binary.Cons Undef (Var 6 sort.List))) (Of2 binary.Cons (Var 4 sort.Val) (Of2 binary.Cons (Global name_g) Nil))) ≡ (Of2 binary.Cons Undef (Of2 binary.Cons Undef (Of2 binary.App (Var 6 sort.List) (Of2 binary.Cons (Var 4 sort.Val) (Of2 binary.Cons (Global name_g) Nil)))))
unfolding computing
pairs_199 = refl

pairs_200 : normal (Of2 binary.Band (Number (pos 7)) (Of2 binary.Eq (Of unary.Unum (Of2 binary.Off (Of2 binary.Nth (Var 6 sort.List) (Number (pos 7))) (Of2 binary.Mul (Number (pos 1)) (Number (pos 3))))) (Of unary.Num (Of unary.Vi (Number (pos 0)))))) ≡ (Of2 binary.Band (Number (pos 7)) (Of2 binary.Eq (Of unary.Unum (Of2 binary.Off (Of2 binary.Nth (Var 6 sort.List) (Number (pos 7))) (Number (pos 3)))) (Number (pos 0))))
unfolding computing
pairs_200 = refl
