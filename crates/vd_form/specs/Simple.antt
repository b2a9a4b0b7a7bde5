-- Typed functions of the form.
use Rattle.std.specs.Prelude.{◌&&◌, ◌==◌, ℕ, Bool, true, false, List, length, nat_lt, Some}
use Rattle.std.specs.List.{list_all}
use Rattle.vd_clight.specs.declared.syntax.BinOp.TheVariants as operator
use Rattle.vd_clight.specs.declared.typed.Kind.TheVariants.{Signed}
use Rattle.vd_clight.specs.declared.typed.Lval.{Lval-F}
use Rattle.vd_clight.specs.declared.typed.Part.{Part-F}
use Rattle.vd_clight.specs.declared.typed.TExpr.{TExpr, TExpr-F, fold-TExpr}
use Rattle.vd_clight.specs.declared.typed.Part.TheOpen as expression
use Rattle.vd_clight.specs.declared.typed.TStmt.{TStmt, TStmt-F, out-TStmt}
use Rattle.vd_clight.specs.declared.typed.TStmt.TheOpen as statement
use Rattle.vd_clight.specs.declared.typed.TypedFn.{TypedFn}

abbrev pub no_part : Part-F Bool Bool Bool → Bool
no_part p = false

abbrev pub no_place : Lval-F Bool Bool Bool → Bool
no_place l = false

abbrev pub simple_layer : ℕ → TExpr-F Bool Bool Bool → Bool
simple_layer temps (expression.Const n) = true
simple_layer temps (expression.Temp x) = nat_lt x temps
simple_layer temps (expression.Binary operator.Add Signed d e) = d && e
simple_layer temps (expression.Binary operator.Sub Signed d e) = d && e
simple_layer temps _ = false

-- an expression of numbers, temporaries of which there are so many, and signed sums and differences
unfoldable pub is_simple : ℕ → TExpr → Bool
is_simple temps = fold-TExpr Bool Bool Bool no_part (simple_layer temps) no_place

abbrev pub is_simple_statement_layer : ℕ → TStmt-F TStmt → Bool
is_simple_statement_layer temps (statement.Set x e) = nat_lt x temps && is_simple temps e
is_simple_statement_layer temps (statement.Return (Some e)) = is_simple temps e
is_simple_statement_layer temps _ = false

-- a temporary is set, or a value returned
abbrev pub is_simple_statement : ℕ → TStmt → Bool
is_simple_statement temps s = is_simple_statement_layer temps (out-TStmt s)

abbrev pub are_simple : ℕ → List TStmt → Bool
are_simple temps body = list_all (is_simple_statement temps) body

-- a function without parameters of such statements
abbrev pub is_simple_function : TypedFn → Bool
is_simple_function f = f.params == 0 && are_simple (length f.temps) f.body
