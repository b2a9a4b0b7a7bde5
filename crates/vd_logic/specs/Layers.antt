-- A fold of a term, by the term's outermost layer.
use Rattle.std.specs.Prelude.{◌≡◌, ℕ, ℤ, List, map}
use Rattle.std.proofs.Common.{ap, ◌∙◌}
use Rattle.vd_base.specs.declared.name.Name.{Name}
use Rattle.vd_logic.specs.declared.term.Op.{Op}
use Rattle.vd_logic.specs.declared.term.Sort.{Sort}
use Rattle.vd_logic.specs.declared.term.Term.{Term, Term-F, Num, Var, Named, Global, App, fold-Term, fold_out-Term, map-Term}
use Rattle.vd_logic.specs.declared.term.Term.TheViews.{outs-Num, outs-Var, outs-Named, outs-Global, outs-App}
use Rattle.vd_logic.specs.declared.term.Term.TheOpen as layer

module _ {A : Type 0} (step : Term-F A → A) where
  pub fold-Num : (n : ℤ) → fold-Term A step (Num n) ≡ step (layer.Num n)
  fold-Num n = fold_out-Term A step (Num n) ∙ ap (λ l. step (map-Term Term A (fold-Term A step) l)) (outs-Num n)

  pub fold-Var : (i : ℕ) (s : Sort) → fold-Term A step (Var i s) ≡ step (layer.Var i s)
  fold-Var i s = fold_out-Term A step (Var i s) ∙ ap (λ l. step (map-Term Term A (fold-Term A step) l)) (outs-Var i s)

  pub fold-Named : (n : Name) → fold-Term A step (Named n) ≡ step (layer.Named n)
  fold-Named n = fold_out-Term A step (Named n) ∙ ap (λ l. step (map-Term Term A (fold-Term A step) l)) (outs-Named n)

  pub fold-Global : (n : Name) → fold-Term A step (Global n) ≡ step (layer.Global n)
  fold-Global n = fold_out-Term A step (Global n) ∙ ap (λ l. step (map-Term Term A (fold-Term A step) l)) (outs-Global n)

  pub fold-App : (op : Op) (args : List Term) → fold-Term A step (App op args) ≡ step (layer.App op (map (fold-Term A step) args))
  fold-App op args = fold_out-Term A step (App op args) ∙ ap (λ l. step (map-Term Term A (fold-Term A step) l)) (outs-App op args)
