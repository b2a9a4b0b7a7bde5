-- Substitution, by a term's outermost layer.
use Rattle.std.proofs.Common.{◌≡◌, ℕ, ℤ, List, map, get_or}
use Rattle.vd_base.specs.declared.name.Name.{Name}
use Rattle.vd_logic.specs.declared.term.Op.{Op}
use Rattle.vd_logic.specs.declared.term.Sort.{Sort}
use Rattle.vd_logic.specs.declared.term.Term.{Term, Num, Var, Named, Global, App}
use Rattle.vd_logic.specs.Substitution.{substituted, substituted_layer}
use Rattle.vd_logic.specs.Layers.{fold-Num, fold-Var, fold-Named, fold-Global, fold-App}

module _ (terms : List Term) where
  pub substituted-Num : (n : ℤ) → substituted terms (Num n) ≡ Num n
  unfolding substituted
  substituted-Num n = fold-Num (substituted_layer terms) n

  pub substituted-Var : (i : ℕ) (s : Sort) → substituted terms (Var i s) ≡ get_or terms i (Var i s)
  unfolding substituted
  substituted-Var i s = fold-Var (substituted_layer terms) i s

  pub substituted-Named : (n : Name) → substituted terms (Named n) ≡ Named n
  unfolding substituted
  substituted-Named n = fold-Named (substituted_layer terms) n

  pub substituted-Global : (n : Name) → substituted terms (Global n) ≡ Global n
  unfolding substituted
  substituted-Global n = fold-Global (substituted_layer terms) n

  pub substituted-App : (op : Op) (args : List Term) → substituted terms (App op args) ≡ App op (map (substituted terms) args)
  unfolding substituted
  substituted-App op args = fold-App (substituted_layer terms) op args
