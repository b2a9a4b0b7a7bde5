-- A function is typed alike under scopes that tell the same.
use Rattle.std.proofs.Common.{true, subst}
use Rattle.vd_clight.specs.declared.program.CScope.{CScope}
use Rattle.vd_clight.specs.declared.syntax.FnText.{FnText}
use Rattle.vd_clight.specs.declared.typed.TypedFn.{TypedFn}
use Rattle.vd_judge.specs.Derivation.{Derives}
use Rattle.vd_judge.specs.Sort as sort
use Rattle.vd_judge.proofs.DerivedAlike.{derived}
use Rattle.vd_ctyping.specs.Alike.{TellTheSame}
use Rattle.vd_ctyping.specs.Function.{environment, function_rule}
use Rattle.vd_ctyping.specs.Typing.{IsTyped}

pub typed_alike : (x y : CScope) (f : FnText) (t : TypedFn) → TellTheSame x y → IsTyped x f t → IsTyped y f t
typed_alike x y f t same typed =
    let moved = derived x.structs y.structs same.structs (environment x f) true sort.function (function_rule f) t typed in
    subst (λ fs. Derives (record { params = f.params; temps = f.temps; returned = f.ret; globals = y.globals; functions = fs; structs = y.structs }) true sort.function (function_rule f) t) same.functions
    (subst (λ gs. Derives (record { params = f.params; temps = f.temps; returned = f.ret; globals = gs; functions = x.fns; structs = y.structs }) true sort.function (function_rule f) t) same.globals moved)
