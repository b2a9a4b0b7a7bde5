-- A step that gives a value back, and the next statement of a frame.
use Rattle.std.proofs.Common.{◌≡◌, ℕ, ◌<◌, ◌≤◌, ◌+◌, Bool, true, false, List, [], ◌∷◌, ◌++◌, length, drop, get_or, None, refl, ◌∙◌, ap}
use Rattle.std.proofs.lemmas.List.{drop_all}
use Rattle.vd_clight.specs.declared.typed.TStmt.{TStmt, out-TStmt}
use Rattle.vd_clight.specs.declared.typed.TStmt.TheOpen as statement
use Rattle.vd_mem.specs.Memory.{Block}
use Rattle.vd_machine.specs.declared.frame.Frame.{Frame as KeptFrame}
use Rattle.vd_machine.specs.declared.frame.Thread.{Thread as KeptThread}
use Rattle.vd_machine.specs.declared.statement.Did.{Did}
use Rattle.vd_machine.specs.declared.statement.Did.TheVariants as did
use Rattle.vd_machine.specs.Evaluation.{Temps}
use Rattle.vd_machine.specs.Frames.{Does, passed}
use Rattle.vd_machine.specs.Kept.{Code, inside, code_of, frame_with, frame_of, thread_of, step_by, Keeps}
use Rattle.vd_machine.specs.Step.{Step}
use Rattle.vd_machine.specs.Thread.{find_in, next}
use Rattle.vd_machine.proofs.Walks.{drop_at}

keeps_given : (d : Did) (P Q : Type 0) → Keeps d ⊥ (Unit {0}) → Q → Keeps d P Q
keeps_given did.Moved P Q h q = tt
keeps_given (did.Forked new) P Q h q = tt
keeps_given did.Blocked P Q h q = absurd h.0
keeps_given (did.Over v) P Q h q = q
keeps_given (did.Wrong c) P Q h q = absurd h.0

pub does_give : (step : Step) (before after : KeptThread) (m : List Block) (d : Did) → step_by d after m ≡ step → Keeps d ⊥ (Unit {0}) → Does step before after m m d
does_give step before after m d e h = record { is = e; keeps = keeps_given d (thread_of after ≡ thread_of before) (m ≡ m) h refl }

next_within : (loop : Bool) (list : List TStmt) (at : ℕ) (x : TStmt) (code : Code) (t : Temps) → drop at list ≡ x ∷ drop (at + 1) list →
    find_in (inside loop list at code).left (inside loop list at code).loops t
    ≡ record { statement = out-TStmt x; frame = frame_with (inside loop list (at + 1) code) t }
next_within true list at x code t e = ap (λ xs. find_in xs (record { body = list; after = code.left } ∷ code.loops) t) e
next_within false list at x code t e = ap (λ xs. find_in (xs ++ code.left) code.loops t) e

-- the next statement of a frame whose innermost list has one
pub next-statement :
    (f : KeptFrame) (x : TStmt) → f.level.at < length f.level.list.now → x ≡ get_or f.level.list.now f.level.at x →
    next (frame_of f) ≡ record { statement = out-TStmt x; frame = frame_of (passed f) }
next-statement f x l e = next_within f.level.is_loop f.level.list.now f.level.at x (code_of f.below.items) f.temps.items (drop_at f.level.list.now f.level.at x l e)

-- at the end of a loop's body
pub next-loop :
    (f : KeptFrame) → f.level.is_loop ≡ true → length f.level.list.now ≤ f.level.at →
    next (frame_of f) ≡ record { statement = statement.Loop f.level.list.now; frame = frame_with (code_of f.below.items) f.temps.items }
next-loop f e l =
    ap (λ b. find_in (inside b f.level.list.now f.level.at (code_of f.below.items)).left (inside b f.level.list.now f.level.at (code_of f.below.items)).loops f.temps.items) e
    ∙ ap (λ xs. find_in xs (record { body = f.level.list.now; after = (code_of f.below.items).left } ∷ (code_of f.below.items).loops) f.temps.items) (drop_all f.level.at f.level.list.now l)

-- at the end of a function
pub next-return :
    (f : KeptFrame) → f.level.is_loop ≡ false → length f.level.list.now ≤ f.level.at → f.below.items ≡ [] →
    next (frame_of f) ≡ record { statement = statement.Return None; frame = record { left = []; loops = []; temps = f.temps.items } }
next-return f e l b =
    ap (λ b. find_in (inside b f.level.list.now f.level.at (code_of f.below.items)).left (inside b f.level.list.now f.level.at (code_of f.below.items)).loops f.temps.items) e
    ∙ ap (λ xs. find_in (xs ++ (code_of f.below.items).left) (code_of f.below.items).loops f.temps.items) (drop_all f.level.at f.level.list.now l)
    ∙ ap (λ ls. find_in (code_of ls).left (code_of ls).loops f.temps.items) b
