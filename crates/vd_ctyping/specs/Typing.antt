-- What `type_fn` answers.
use Rattle.std.specs.Prelude.{◌≡◌, ◌⊎◌, Bool, true, List, Result, Ok, Err, ⊤}
use Rattle.vd_clight.specs.declared.program.CScope.{CScope}
use Rattle.vd_clight.specs.declared.syntax.FnText.{FnText}
use Rattle.vd_clight.specs.declared.typed.TypedFn.{TypedFn}
use Rattle.vd_judge.specs.declared.fault.TypeFault.{TypeFault}
use Rattle.vd_judge.specs.declared.fault.TypeFault.TheVariants as fault
use Rattle.vd_judge.specs.Derivation.{Derives, Faulty, IsFirst}
use Rattle.vd_ctyping.specs.Function.{environment, function_rule}
use Rattle.vd_judge.specs.Sort as sort

-- the function is typed and in normal form, and this is its typed syntax
abbrev pub IsTyped : CScope → FnText → TypedFn → Type 0
IsTyped scope f t = Derives (environment scope f) true sort.function (function_rule f) t

-- a fault of the function, and the way that leads to it
abbrev pub IsFault : CScope → FnText → List Bool → TypeFault → Type 0
IsFault scope f at fault = Faulty (environment scope f) sort.function (function_rule f) at fault

-- the fault that is answered
abbrev pub IsFirstFault : CScope → FnText → TypeFault → Type 0
IsFirstFault scope f fault = IsFirst (IsFault scope f) fault

-- an answer is the typed function or its first fault, unless memory ran out
abbrev pub Answers : CScope → FnText → Result TypedFn TypeFault → Type 0
Answers scope f (Ok t) = IsTyped scope f t
Answers scope f (Err fault.Memory) = ⊤
Answers scope f (Err (fault.Unknown place name)) = IsFirstFault scope f (fault.Unknown place name)
Answers scope f (Err (fault.Mismatch place wanted given)) = IsFirstFault scope f (fault.Mismatch place wanted given)
Answers scope f (Err (fault.NotNormal place)) = IsFirstFault scope f (fault.NotNormal place)

-- ---- laws

-- a function has one typed syntax at most
abbrev pub TypedOnce : Type 0
TypedOnce = (scope : CScope) (f : FnText) (t u : TypedFn) → IsTyped scope f t → IsTyped scope f u → t ≡ u

-- a typed function in normal form has no fault
abbrev pub TypedHasNoFault : Type 0
TypedHasNoFault = (scope : CScope) (f : FnText) (t : TypedFn) (at : List Bool) (fault : TypeFault) → IsTyped scope f t → IsFault scope f at fault → ⊥

-- any other has a first one
abbrev pub TypedOrFaulty : Type 0
TypedOrFaulty = (scope : CScope) (f : FnText) → ((t : TypedFn) × IsTyped scope f t) ⊎ ((fault : TypeFault) × IsFirstFault scope f fault)
