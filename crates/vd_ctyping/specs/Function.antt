-- Functions: their declarations, what their statements see, and their rule.
use Rattle.std.specs.Prelude.{ℕ, Bool, cond, true, not, ◌&&◌, ◌||◌, List, [], ◌∷◌, ◌++◌, length}
use Rattle.std.specs.List.{list_any, list_all}
use Rattle.std.specs.Str.{bytes_eq}
use Rattle.vd_base.specs.declared.ctype.CType.{CType, Void}
use Rattle.vd_base.specs.declared.ctype.Field.{Field}
use Rattle.vd_clight.specs.declared.program.CScope.{CScope}
use Rattle.vd_clight.specs.declared.syntax.FnText.{FnText}
use Rattle.vd_clight.specs.declared.typed.TStmt.{TStmt}
use Rattle.vd_clight.specs.declared.typed.TypedFn.{TypedFn}
use Rattle.vd_judge.specs.declared.checked.Checked.TheVariants.{Untyped}
use Rattle.vd_judge.specs.declared.fault.TypeFault.TheVariants as fault
use Rattle.vd_judge.specs.Checked.{fine}
use Rattle.vd_judge.specs.Environment.{Environment, names_of}
use Rattle.vd_judge.specs.Rule.{Rule, says, rests}
use Rattle.vd_judge.specs.Rules.{block}
use Rattle.vd_judge.specs.Sort as sort
use Rattle.vd_judge.specs.Types.{is_scalar, is_void}

-- ---- declarations

-- no name stands twice
abbrev pub are_distinct : List (List ℕ) → Bool
are_distinct [] = true
are_distinct (n ∷ ns) = not (list_any (bytes_eq n) ns) && are_distinct ns

-- parameters and temporaries hold integers and pointers
abbrev pub are_scalars : List Field → Bool
are_scalars fields = list_all (λ f. is_scalar f.typ) fields

-- a function returns an integer, a pointer or nothing
abbrev pub is_result : CType → Bool
is_result t = is_void t || is_scalar t

-- all variables' names, the parameters' first
abbrev pub variables : FnText → List (List ℕ)
variables f = names_of f.params ++ names_of f.temps

-- the function and its variables have names of their own, and types that a variable or a result may have
abbrev pub are_declared : FnText → Bool
are_declared f = is_result f.ret && (are_scalars f.params && (are_scalars f.temps && are_distinct (f.name ∷ variables f)))

-- ---- functions

-- what the statements of a function see
abbrev pub environment : CScope → FnText → Environment
environment scope f =
    record { params = f.params; temps = f.temps; returned = f.ret; globals = scope.globals; functions = scope.fns; structs = scope.structs }

abbrev pub with_body : FnText → List TStmt → TypedFn
with_body f body = record { name = f.name; ret = f.ret; params = length f.params; temps = variables f; body = body }

-- declarations stand at place 0, before all else
abbrev pub declared : FnText → Rule sort.nothing
declared f = says (cond (are_declared f) (fine tt) (Untyped (fault.Mismatch 0 Void Void)))

abbrev pub function_rule : FnText → Rule sort.function
function_rule f = rests (declared f) (λ d. rests (block f.body) (λ body. says (fine (with_body f body))))
