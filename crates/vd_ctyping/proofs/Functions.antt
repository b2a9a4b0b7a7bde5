-- Functions: the answer is the typed function or its first fault.
use Rattle.std.proofs.Common.{◌≡◌, ◌⊎◌, Bool, true, false, cond, List, None, Some, Result, Ok, Err, refl, sym, ap, ◌∙◌, subst, inl, inr}
use Rattle.vd_base.specs.declared.ctype.CType.{Void}
use Rattle.vd_clight.specs.declared.program.CScope.{CScope}
use Rattle.vd_clight.specs.declared.syntax.FnText.{FnText}
use Rattle.vd_clight.specs.declared.typed.TStmt.{TStmt}
use Rattle.vd_clight.specs.declared.typed.TypedFn.{TypedFn}
use Rattle.vd_judge.specs.declared.checked.Checked.{Checked}
use Rattle.vd_judge.specs.declared.checked.Checked.TheVariants.{Typed, Untyped}
use Rattle.vd_judge.specs.declared.fault.TypeFault.{TypeFault}
use Rattle.vd_judge.specs.declared.fault.TypeFault.TheVariants as fault
use Rattle.vd_judge.specs.Checked.{fine, follows}
use Rattle.vd_judge.specs.Derivation.{Gives}
use Rattle.vd_ctyping.specs.Function.{are_declared, declared, environment, function_rule, with_body}
use Rattle.vd_ctyping.specs.CheckedFunction.{finished, body_of, typed_function}
use Rattle.vd_judge.specs.Rule.{says, rests}
use Rattle.vd_judge.specs.Rules.{block}
use Rattle.vd_ctyping.specs.Typing.{IsTyped, IsFault, IsFirstFault, Answers, TypedOnce, TypedHasNoFault, TypedOrFaulty}
use Rattle.vd_judge.proofs.Agreement.{Agrees, agrees_says, agrees_rests}
use Rattle.vd_judge.proofs.Agreeing.{said_on}
use Rattle.vd_judge.proofs.Blocks.{body_agrees}

-- whether the declarations are allowed, as a part
abbrev declaring : FnText → Checked (Unit {0})
declaring f = cond (are_declared f) (fine {A = Unit {0}} tt) (Untyped (fault.Mismatch 0 Void Void))

abbrev with_it : FnText → Checked (List TStmt) → Checked TypedFn
with_it f c = follows c (λ b. fine (with_body f b))

abbrev checked_function : CScope → FnText → Checked TypedFn
checked_function scope f = follows (declaring f) (λ d. with_it f (body_of scope f))

abbrev answer_of : Checked TypedFn → Result TypedFn TypeFault
answer_of (Typed t None) = Ok t
answer_of (Typed t (Some g)) = Err g
answer_of (Untyped g) = Err g

finished_is : (f : FnText) (c : Checked (List TStmt)) → finished f c ≡ answer_of (with_it f c)
finished_is f (Typed b None) = refl
finished_is f (Typed b (Some g)) = refl
finished_is f (Untyped g) = refl

fine_first : {A : Type 0} (c : Checked A) → follows (fine {A = Unit {0}} tt) (λ d. c) ≡ c
fine_first (Typed x None) = refl
fine_first (Typed x (Some g)) = refl
fine_first (Untyped g) = refl

answer_is : (b : Bool) (f : FnText) (c : Checked (List TStmt)) → cond b (finished f c) (Err (fault.Mismatch 0 Void Void)) ≡ answer_of (follows (cond b (fine {A = Unit {0}} tt) (Untyped (fault.Mismatch 0 Void Void))) (λ d. with_it f c))
answer_is true f c = finished_is f c ∙ ap answer_of (sym (fine_first (with_it f c)))
answer_is false f c = refl

typed_is : (scope : CScope) (f : FnText) → typed_function scope f ≡ answer_of (checked_function scope f)
typed_is scope f = answer_is (are_declared f) f (body_of scope f)

function_agrees : (scope : CScope) (f : FnText) → Agrees (environment scope f) (function_rule f) (checked_function scope f)
function_agrees scope f =
    let env = environment scope f in
    agrees_rests env (declared f) (λ d. rests (block f.body) (λ body. says (fine (with_body f body)))) (λ d. with_it f (body_of scope f))
    (λ d. said_on env (block f.body) (body_of scope f) (λ b. fine (with_body f b)) (body_agrees env f.body)) (declaring f) (agrees_says env (declaring f))

first_answered : (scope : CScope) (f : FnText) (g : TypeFault) → IsFirstFault scope f g → Answers scope f (Err g)
first_answered scope f (fault.Unknown place name) h = h
first_answered scope f (fault.Mismatch place wanted given) h = h
first_answered scope f (fault.NotNormal place) h = h
first_answered scope f fault.Memory h = tt

answers : (scope : CScope) (f : FnText) (c : Checked TypedFn) → Agrees (environment scope f) (function_rule f) c → Answers scope f (answer_of c)
answers scope f (Typed t None) a = a.sound true t refl
answers scope f (Typed t (Some g)) a = first_answered scope f g a.faults
answers scope f (Untyped g) a = first_answered scope f g a.faults

-- what the checker finds is the answer
pub answered : (scope : CScope) (f : FnText) (r : Result TypedFn TypeFault) → r ≡ typed_function scope f → Answers scope f r
answered scope f r h = subst (Answers scope f) (sym (h ∙ typed_is scope f)) (answers scope f (checked_function scope f) (function_agrees scope f))

-- ---- laws

one_given : {A : Type 0} (c : Checked A) (x y : A) → Gives true c x → Gives true c y → x ≡ y
one_given (Typed z None) x y e h = sym e ∙ h
one_given (Typed z (Some g)) x y e h = absurd e
one_given (Untyped g) x y e h = absurd e

pub typed_once : TypedOnce
typed_once scope f t u one two =
    let a = function_agrees scope f in
    one_given (checked_function scope f) t u (a.complete true t one) (a.complete true u two)

without_fault : (scope : CScope) (f : FnText) (c : Checked TypedFn) (t : TypedFn) → Agrees (environment scope f) (function_rule f) c → Gives true c t → (at : List Bool) (g : TypeFault) → IsFault scope f at g → ⊥
without_fault scope f (Typed z None) t a e at g h = a.faults at g h
without_fault scope f (Typed z (Some k)) t a e at g h = absurd e
without_fault scope f (Untyped k) t a e at g h = absurd e

pub typed_has_no_fault : TypedHasNoFault
typed_has_no_fault scope f t at g one h =
    let a = function_agrees scope f in
    without_fault scope f (checked_function scope f) t a (a.complete true t one) at g h

decided : (scope : CScope) (f : FnText) (c : Checked TypedFn) → Agrees (environment scope f) (function_rule f) c → ((t : TypedFn) × IsTyped scope f t) ⊎ ((g : TypeFault) × IsFirstFault scope f g)
decided scope f (Typed t None) a = inl (t, a.sound true t refl)
decided scope f (Typed t (Some g)) a = inr (g, a.faults)
decided scope f (Untyped g) a = inr (g, a.faults)

pub typed_or_faulty : TypedOrFaulty
typed_or_faulty scope f = decided scope f (checked_function scope f) (function_agrees scope f)
