-- Values of expressions, one layer at a time.
use Rattle.std.proofs.Common.{◌≡◌, ℤ, pos, ◌+ℤ◌, ◌-ℤ◌, ◌&&◌, Option, Some, option_map, refl, ap, ◌∙◌}
use Rattle.std.proofs.Math.Bool.{and-true}
use Rattle.std.proofs.lemmas.List.Folds.{list_all-append}
use Rattle.vd_clight.specs.declared.syntax.BinOp.{BinOp}
use Rattle.vd_clight.specs.declared.syntax.BinOp.TheVariants as op
use Rattle.vd_clight.specs.declared.typed.Kind.{Kind}
use Rattle.vd_clight.specs.declared.typed.Kind.TheVariants.{Signed}
use Rattle.vd_clight.specs.declared.typed.TExpr.{TExpr, Binary, fold_out-TExpr}
use Rattle.vd_clight.specs.declared.typed.Part.TheViews.{outs-Binary}
use Rattle.vd_check.specs.Value.{Value, Locals, value, binary_value, computed, is_proved, is_signed, wrapped}
use Rattle.vd_check.specs.Evaluated.{evaluated, evaluated_binary, operated}

value-Binary : (locals : Locals) (o : BinOp) (k : Kind) (a b : TExpr) → value locals (Binary o k a b) ≡ binary_value o k (value locals a) (value locals b)
unfolding value
value-Binary locals o k a b = rw (fold_out-TExpr _ _ _ _ _ _ (Binary o k a b), outs-Binary o k a b)

is_proved-computed : (a b : Value) (z : ℤ) → is_proved (computed a b z) ≡ ((is_proved a && is_proved b) && (is_signed (pos a.number) && (is_signed (pos b.number) && is_signed z)))
is_proved-computed a b z = simp (list_all-append, and-true)

evaluated-computed : (a b : Value) (z : ℤ) → evaluated (computed a b z) ≡ operated (evaluated a) (evaluated b) z
evaluated-computed a b z = ap (λ p. record { number = wrapped z; proved = p }) (is_proved-computed a b z)

evaluated_of_binary : (o : BinOp) (k : Kind) (a b : Option Value) → option_map evaluated (binary_value o k a b) ≡ evaluated_binary o k (option_map evaluated a) (option_map evaluated b)
evaluated_of_binary op.Add Signed (Some a) (Some b) = ap Some (evaluated-computed a b (pos a.number +ℤ pos b.number))
evaluated_of_binary op.Sub Signed (Some a) (Some b) = ap Some (evaluated-computed a b (pos a.number -ℤ pos b.number))
evaluated_of_binary _ _ _ _ = refl

-- the operands alone decide
pub evaluated_operands : (locals : Locals) (o : BinOp) (k : Kind) (a b : TExpr) → option_map evaluated (value locals (Binary o k a b)) ≡ evaluated_binary o k (option_map evaluated (value locals a)) (option_map evaluated (value locals b))
evaluated_operands locals o k a b = ap (option_map evaluated) (value-Binary locals o k a b) ∙ evaluated_of_binary o k (value locals a) (value locals b)
