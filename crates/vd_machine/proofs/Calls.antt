-- Calls and spawns from their parts.
use Rattle.std.proofs.Common.{◌≡◌, ℕ, ◌<◌, Bool, List, [], ◌∷◌, length, get_or, Option, Some, Ok, Err, Result, refl, sym, ◌∙◌, ap, ap₂}
use Rattle.std.specs.Prelude.{slice_get, IfOk}
use Rattle.std.specs.List.{find}
use Rattle.std.specs.Str.{bytes_eq}
use Rattle.std.proofs.lemmas.Option.{slice_get_read}
use Rattle.vd_clight.specs.declared.program.Program.{Program}
use Rattle.vd_clight.specs.declared.typed.TExpr.{TExpr}
use Rattle.vd_clight.specs.declared.typed.TypedFn.{TypedFn}
use Rattle.vd_clight.specs.declared.typed.TStmt.TheOpen as statement
use Rattle.vd_mem.specs.declared.value.Value.{Value}
use Rattle.vd_mem.specs.Memory.{Block}
use Rattle.vd_machine.specs.declared.frame.Thread.{Thread as KeptThread}
use Rattle.vd_machine.specs.declared.statement.Did.TheVariants as did
use Rattle.vd_machine.specs.Evaluation.{eval, eval_all}
use Rattle.vd_machine.specs.Frames.{Does, acted, passed}
use Rattle.vd_machine.specs.Kept.{frame_of, callers_of, thread_of}
use Rattle.vd_machine.specs.Step.{Moved, Forked, after_call, after_spawn}
use Rattle.vd_machine.specs.Thread.{Running, entry, function}

-- the function of a number that has the name
pub function_is :
    (p : Program) (name : List ℕ) (fns : List TypedFn) (i : ℕ) (f : TypedFn) → fns ≡ p.fns → i < length fns → f ≡ get_or fns i f →
    slice_get fns i ≡ find (λ g. bytes_eq g.name name) fns → Some f ≡ function p name
function_is p name fns i f same l e h = sym (slice_get_read fns (length fns) i f refl l e) ∙ h ∙ ap (λ gs. find (λ g. bytes_eq g.name name) gs) same

pub call_is :
    (p : Program) (pick : Bool) (target : Option ℕ) (name : List ℕ) (es : List TExpr) (t u : KeptThread) (m : List Block) (f : TypedFn) (vs : List Value) →
    Ok vs ≡ eval_all p.globals t.top.temps.items es → Some f ≡ function p name → frame_of u.top ≡ entry f vs →
    callers_of u.waiting.items ≡ record { frame = frame_of (passed t.top); target = target } ∷ callers_of t.waiting.items →
    Does (acted p pick (statement.Call target name es) t m) t u m m did.Moved
call_is p pick target name es t u m f vs v g top waiting = record {
  is = ap₂ (λ fr cs. Moved (Running fr cs) m) top waiting
      ∙ ap₂ (λ r h. after_call r h target (frame_of (passed t.top)) (callers_of t.waiting.items) m) v g;
  keeps = tt;
}

pub spawn_is :
    (p : Program) (pick : Bool) (name : List ℕ) (e : TExpr) (t u new : KeptThread) (m : List Block) (f : TypedFn) (v : Value) →
    Ok v ≡ eval p.globals t.top.temps.items e → Some f ≡ function p name → thread_of new ≡ Running (entry f (v ∷ [])) [] →
    thread_of u ≡ Running (frame_of (passed t.top)) (callers_of t.waiting.items) →
    Does (acted p pick (statement.Spawn name e) t m) t u m m (did.Forked new)
spawn_is p pick name e t u new m f v r g made old = record {
  is = ap₂ (λ th k. Forked th k m) old made
      ∙ ap₂ (λ r h. after_spawn r h (frame_of (passed t.top)) (callers_of t.waiting.items) m) r g;
  keeps = tt;
}

-- what holds at each pick holds at one
pub at_pick : {T E : Type 0} (r : Result T E) (P : Bool → T → Type 0) → IfOk r (λ d. (pick : Bool) → P pick d) → (pick : Bool) → IfOk r (λ d. P pick d)
at_pick (Ok d) P h pick = h pick
at_pick (Err e) P h pick = h
