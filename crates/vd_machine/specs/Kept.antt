-- What the kept parts of threads stand for.
use Rattle.std.specs.Prelude.{ℕ, Bool, true, false, List, [], ◌∷◌, ◌++◌, drop, Option, None, Some}
use Rattle.std.specs.List.{fold}
use Rattle.vd_clight.specs.declared.program.Program.{Program}
use Rattle.vd_clight.specs.declared.typed.TStmt.{TStmt}
use Rattle.vd_mem.specs.Memory.{Block}
use Rattle.vd_machine.specs.declared.frame.Level.{Level}
use Rattle.vd_machine.specs.declared.frame.Frame.{Frame as KeptFrame}
use Rattle.vd_machine.specs.declared.frame.Waiting.{Waiting}
use Rattle.vd_machine.specs.declared.frame.Thread.{Thread as KeptThread}
use Rattle.vd_machine.specs.declared.effect.Effect.{Effect as KeptEffect}
use Rattle.vd_machine.specs.declared.effect.Effect.TheVariants as kept
use Rattle.vd_machine.specs.declared.statement.Did.{Did}
use Rattle.vd_machine.specs.declared.statement.Did.TheVariants as did
use Rattle.vd_machine.specs.Evaluation.{Temps}
use Rattle.vd_machine.specs.Step.{Effect, Goes, Waits, Stuck, Step, Moved, Forked, Blocked, Over, Wrong, step}
use Rattle.vd_machine.specs.Thread.{Around, Frame, Caller, Thread, Ended, Running}

-- the statements left up to the end of the innermost loop's body, and the enclosing loops
pub record Code : Type 0 where
  pub left : List TStmt
  pub loops : List Around

abbrev pub no_code : Code
no_code = record { left = []; loops = [] }

-- a list of statements inside others: a loop's body ends at the loop, another one goes on after its end
abbrev pub inside : Bool → List TStmt → ℕ → Code → Code
inside true list at code = record { left = drop at list; loops = record { body = list; after = code.left } ∷ code.loops }
inside false list at code = record { left = drop at list ++ code.left; loops = code.loops }

abbrev pub under : Code → Level → Code
under code l = inside l.is_loop l.list.now l.at code

-- lists of statements, the outermost first
abbrev pub code_of : List Level → Code
code_of levels = fold under no_code levels

abbrev pub frame_code : KeptFrame → Code
frame_code f = under (code_of f.below.items) f.level

abbrev pub frame_with : Code → Temps → Frame
frame_with code t = record { left = code.left; loops = code.loops; temps = t }

abbrev pub frame_of : KeptFrame → Frame
frame_of f = frame_with (frame_code f) f.temps.items

abbrev pub caller_of : Waiting → Caller
caller_of w = record { frame = frame_of w.frame; target = w.target }

abbrev pub add_caller : List Caller → Waiting → List Caller
add_caller cs w = caller_of w ∷ cs

-- the frames that wait, the outermost first
abbrev pub callers_of : List Waiting → List Caller
callers_of ws = fold add_caller [] ws

abbrev pub thread_of : KeptThread → Thread
thread_of t = Running (frame_of t.top) (callers_of t.waiting.items)

abbrev pub slot_of : Option KeptThread → Thread
slot_of None = Ended
slot_of (Some t) = thread_of t

-- out of the innermost loop, and to its end
abbrev pub broken : List Around → Option Code
broken [] = None
broken (k ∷ ks) = Some (record { left = k.after; loops = ks })

abbrev pub continued : List Around → Option Code
continued [] = None
continued (k ∷ ks) = Some (record { left = []; loops = k ∷ ks })

abbrev pub effect_by : KeptEffect → Temps → List Block → Effect
effect_by kept.Goes t m = Goes t m
effect_by kept.Waits t m = Waits
effect_by (kept.Stuck c) t m = Stuck c

-- where a statement did not go on all is as before
abbrev pub KeepsUnlessGoes : KeptEffect → Type 0 → Type 0
KeepsUnlessGoes kept.Goes P = Unit {0}
KeepsUnlessGoes kept.Waits P = P
KeepsUnlessGoes (kept.Stuck c) P = P

abbrev pub step_by : Did → KeptThread → List Block → Step
step_by did.Moved t m = Moved (thread_of t) m
step_by (did.Forked new) t m = Forked (thread_of t) (thread_of new) m
step_by did.Blocked t m = Blocked
step_by (did.Over v) t m = Over v
step_by (did.Wrong c) t m = Wrong c

-- what stays: all where the thread waits or is stuck, memory where it ends
abbrev pub Keeps : Did → Type 0 → Type 0 → Type 0
Keeps did.Moved P Q = Unit {0}
Keeps (did.Forked new) P Q = Unit {0}
Keeps did.Blocked P Q = P × Q
Keeps (did.Over v) P Q = Q
Keeps (did.Wrong c) P Q = P × Q

abbrev pub step_of : Program → Bool → Thread → List Block → Step
step_of p pick Ended m = Blocked
step_of p pick (Running fr cs) m = step p pick fr cs m
