-- Variables in the place of names, by a term's outermost layer.
use Rattle.std.proofs.Common.{◌≡◌, ℕ, ℤ, List, Option, map}
use Rattle.vd_base.specs.declared.name.Name.{Name}
use Rattle.vd_logic.specs.Layers.{fold-Num, fold-Var, fold-Named, fold-Global, fold-App}
use Rattle.vd_logic.specs.declared.term.Op.{Op}
use Rattle.vd_logic.specs.declared.term.Sort.{Sort}
use Rattle.vd_logic.specs.declared.term.Term.{Term, Num, Var, Named, Global, App}
use Rattle.vd_logic_grammar.specs.Variables.{named_or, numbered, numbered_layer}

module _ (variable : List ℕ → Option (ℕ × Sort)) where
  pub numbered-Num : (n : ℤ) → numbered variable (Num n) ≡ Num n
  unfolding numbered
  numbered-Num n = fold-Num (numbered_layer variable) n

  pub numbered-Var : (i : ℕ) (s : Sort) → numbered variable (Var i s) ≡ Var i s
  unfolding numbered
  numbered-Var i s = fold-Var (numbered_layer variable) i s

  pub numbered-Named : (name : Name) → numbered variable (Named name) ≡ named_or name (variable name)
  unfolding numbered
  numbered-Named name = fold-Named (numbered_layer variable) name

  pub numbered-Global : (name : Name) → numbered variable (Global name) ≡ Global name
  unfolding numbered
  numbered-Global name = fold-Global (numbered_layer variable) name

  pub numbered-App : (op : Op) (args : List Term) → numbered variable (App op args) ≡ App op (map (numbered variable) args)
  unfolding numbered
  numbered-App op args = fold-App (numbered_layer variable) op args
