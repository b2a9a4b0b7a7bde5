-- How deep statements are nested, which bounds the lists on a function's frame; and frames with room for their lists.
use Rattle.std.specs.Prelude.{ℕ, suc, ◌+◌, ◌≤◌, max, List, [], ◌∷◌, map, Option, None, Some}
use Rattle.std.specs.Vec.{vec_len, vec_capacity}
use Rattle.vd_clight.specs.declared.typed.TypedFn.{TypedFn}
use Rattle.vd_clight.specs.declared.typed.TStmt.{TStmt, TStmt-F, fold-TStmt}
use Rattle.vd_clight.specs.declared.typed.TStmt.TheOpen as statement
use Rattle.vd_machine.specs.declared.frame.Level.{Level}
use Rattle.vd_machine.specs.declared.frame.Frame.{Frame}
use Rattle.vd_machine.specs.declared.frame.Waiting.{Waiting}
use Rattle.vd_machine.specs.declared.frame.Thread.{Thread}
use Rattle.vd_machine.specs.declared.statement.Did.{Did}
use Rattle.vd_machine.specs.declared.statement.Did.TheVariants as did
use Rattle.vd_machine.specs.Frames.{IsSettled}

-- the greatest of some numbers
abbrev pub most : List ℕ → ℕ
most [] = 0
most (x ∷ xs) = max x (most xs)

abbrev pub depth_layer : TStmt-F ℕ → ℕ
depth_layer (statement.If c a b) = suc (max (most a) (most b))
depth_layer (statement.Loop s) = suc (most s)
depth_layer _ = 0

-- how many lists of statements stand inside one another in a statement
unfoldable pub depth : TStmt → ℕ
depth = fold-TStmt ℕ depth_layer

abbrev pub depth_of : List TStmt → ℕ
depth_of list = most (map depth list)

abbrev pub function_depth : TypedFn → ℕ
function_depth f = depth_of f.body

-- lists from place i on, each with room above it for the lists inside it
abbrev pub FitFrom : ℕ → ℕ → List Level → Type 0
FitFrom room i [] = Unit {0}
FitFrom room i (l ∷ ls) = (i + depth_of l.list.now ≤ room) × FitFrom room (i + 1) ls

-- a frame that needs no more room for lists of statements
abbrev pub IsRoomy : Frame → Type 0
IsRoomy f = FitFrom (vec_capacity f.below) 0 f.below.items × (vec_len f.below + depth_of f.level.list.now ≤ vec_capacity f.below)

abbrev pub AreRoomy : List Waiting → Type 0
AreRoomy [] = Unit {0}
AreRoomy (w ∷ ws) = IsRoomy w.frame × AreRoomy ws

abbrev pub IsRoomyThread : Thread → Type 0
IsRoomyThread t = IsRoomy t.top × AreRoomy t.waiting.items

-- a thread whose next statement is at hand, and whose frames need no more room for lists of statements
abbrev pub IsReady : Thread → Type 0
IsReady t = IsSettled t.top × IsRoomyThread t

abbrev pub IsReadySlot : Option Thread → Type 0
IsReadySlot None = Unit {0}
IsReadySlot (Some t) = IsReady t

abbrev pub AreReady : List (Option Thread) → Type 0
AreReady [] = Unit {0}
AreReady (x ∷ xs) = IsReadySlot x × AreReady xs

-- a thread that a step made
abbrev pub IsNewReady : Did → Type 0
IsNewReady (did.Forked t) = IsReady t
IsNewReady _ = Unit {0}
