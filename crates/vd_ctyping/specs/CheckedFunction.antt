-- The checker's way of a function.
use Rattle.std.specs.Prelude.{List, None, Some, map, Result, Ok, Err, if◌then◌else◌}
use Rattle.vd_base.specs.declared.ctype.CType.{Void}
use Rattle.vd_clight.specs.declared.program.CScope.{CScope}
use Rattle.vd_clight.specs.declared.syntax.FnText.{FnText}
use Rattle.vd_clight.specs.declared.typed.TStmt.{TStmt}
use Rattle.vd_clight.specs.declared.typed.TypedFn.{TypedFn}
use Rattle.vd_judge.specs.declared.fault.TypeFault.{TypeFault}
use Rattle.vd_judge.specs.declared.fault.TypeFault.TheVariants as fault
use Rattle.vd_judge.specs.declared.checked.Checked.{Checked}
use Rattle.vd_judge.specs.declared.checked.Checked.TheVariants.{Typed, Untyped}
use Rattle.vd_judge.specs.CheckedStatement.{block, typed_statement}
use Rattle.vd_ctyping.specs.Function.{are_declared, environment, with_body}

abbrev pub finished : FnText → Checked (List TStmt) → Result TypedFn TypeFault
finished f (Typed body None) = Ok (with_body f body)
finished f (Typed body (Some fault)) = Err fault
finished f (Untyped fault) = Err fault

-- the body, or the first fault of its statements
abbrev pub body_of : CScope → FnText → Checked (List TStmt)
body_of scope f = block (map (typed_statement (environment scope f)) f.body)

-- the typed function, or its first fault; declarations stand at place 0, before all else
abbrev pub typed_function : CScope → FnText → Result TypedFn TypeFault
typed_function scope f = if are_declared f then finished f (body_of scope f) else Err (fault.Mismatch 0 Void Void)
