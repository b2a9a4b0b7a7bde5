-- Operators by how tightly they bind.
use Rattle.std.specs.Prelude.{ℕ, ◌<◌, ◌≤◌, ◌≡◌, List, [], ◌∷◌, ◌++◌}
use Rattle.vd_cgrammar.specs.declared.kind.Kind.{Kind}
use Rattle.vd_clight.specs.declared.syntax.Expr.{Expr}
use Rattle.vd_cgrammar.specs.Syntax.{level_of, grouped}

-- each operator binds as tightly as the level says, or more tightly
abbrev pub AllFrom : ℕ → List (Kind × Expr) → Type 0
AllFrom n [] = Unit {0}
AllFrom n (o ∷ os) = (n ≤ level_of o.0) × AllFrom n os

-- the next operator binds less tightly
abbrev pub StopsBelow : ℕ → List (Kind × Expr) → Type 0
StopsBelow n [] = Unit {0}
StopsBelow n (o ∷ os) = level_of o.0 < n

-- no operator binds less tightly than the next one
abbrev pub AllFromNext : List (Kind × Expr) → List (Kind × Expr) → Type 0
AllFromNext taken [] = Unit {0}
AllFromNext taken (o ∷ os) = AllFrom (level_of o.0) taken

-- the operators from a level on are taken off the front
pub record Climbs (least : ℕ) (x : Expr) (os : List (Kind × Expr)) (y : Expr) (rest : List (Kind × Expr)) : Type 0 where
  pub taken : List (Kind × Expr)
  pub cut : os ≡ taken ++ rest
  pub above : AllFrom least taken
  pub stops : StopsBelow least rest
  pub value : y ≡ grouped x taken

-- the same within a loop
pub record Climbing (least : ℕ) (x : Expr) (os : List (Kind × Expr)) (y : Expr) (rest : List (Kind × Expr)) : Type 0 where
  pub taken : List (Kind × Expr)
  pub cut : os ≡ taken ++ rest
  pub above : AllFrom least taken
  pub next : AllFromNext taken rest
  pub value : y ≡ grouped x taken
