-- What the next statement of a thread touches, as data: a cell, the two cells of a pointer test, or a block.
use Rattle.std.specs.Prelude.{◌≡◌, ℕ, ◌<◌, ◌≤◌, nat_lt, nat_le, Bool, true, false, cond, ◌&&◌, ◌||◌, ◌==◌, List, Option, None, Some, IsSome, is_some, Ok, ◌⊎◌}
use Rattle.vd_clight.specs.declared.program.GlobalDef.{GlobalDef}
use Rattle.vd_clight.specs.declared.typed.TStmt.{TStmt, TStmt-F}
use Rattle.vd_clight.specs.declared.typed.TStmt.TheOpen as statement
use Rattle.vd_clight.specs.declared.typed.LockOp.TheVariants as lock
use Rattle.vd_clight.specs.declared.typed.Cond.{Cond}
use Rattle.vd_clight.specs.declared.typed.Cond.TheVariants as condition
use Rattle.vd_mem.specs.declared.value.Value.TheVariants.{Ptr}
use Rattle.vd_mem.specs.Memory.{Block, cell_at}
use Rattle.vd_machine.specs.declared.answer.Spot.{Spot}
use Rattle.vd_machine.specs.declared.touch.Touched.{Touched}
use Rattle.vd_machine.specs.Arithmetic.{Evaluated}
use Rattle.vd_machine.specs.Evaluation.{Temps, eval, address}
use Rattle.vd_machine.specs.Thread.{Thread, Ended, Running, Focus, next}

-- the place that a value is the address of
abbrev pub spot_of : Evaluated → Option Spot
spot_of (Ok (Ptr b o)) = Some (record { block = b; offset = o })
spot_of _ = None

abbrev pub block_of : Option Spot → Option ℕ
block_of None = None
block_of (Some p) = Some p.block

abbrev pub nothing : Touched
nothing = record { first = None; second = None; block = None; writes = false }

abbrev pub at_spot : Bool → Option Spot → Touched
at_spot writes p = record { first = p; second = None; block = None; writes = writes }

abbrev pub test_touch : List GlobalDef → Temps → Cond → Touched
test_touch globals t (condition.Int k e) = nothing
test_touch globals t (condition.Same d e flag) =
    record { first = spot_of (eval globals t d); second = spot_of (eval globals t e); block = None; writes = false }

abbrev pub statement_touch : List GlobalDef → Temps → TStmt-F TStmt → Touched
statement_touch globals t (statement.Load x l) = at_spot false (spot_of (address globals t l))
statement_touch globals t (statement.Store l e) = at_spot true (spot_of (address globals t l))
statement_touch globals t (statement.Free e) = record { first = None; second = None; block = block_of (spot_of (eval globals t e)); writes = true }
statement_touch globals t (statement.Lock lock.Make e) = at_spot true (spot_of (eval globals t e))
statement_touch globals t (statement.Lock lock.Acquire e) = at_spot false (spot_of (eval globals t e))
statement_touch globals t (statement.Lock lock.Release e) = at_spot false (spot_of (eval globals t e))
statement_touch globals t (statement.Lock lock.Free e) = at_spot true (spot_of (eval globals t e))
statement_touch globals t (statement.If c x y) = test_touch globals t c
statement_touch globals t _ = nothing

abbrev pub focus_touch : List GlobalDef → Focus → Touched
focus_touch globals f = statement_touch globals f.frame.temps f.statement

abbrev pub thread_touch : List GlobalDef → Option Thread → Touched
thread_touch globals None = nothing
thread_touch globals (Some Ended) = nothing
thread_touch globals (Some (Running fr cs)) = focus_touch globals (next fr)

-- a place is the cell
abbrev pub is_at : Option Spot → ℕ → ℕ → Bool
is_at None b o = false
is_at (Some p) b o = (p.block == b) && (p.offset == o)

abbrev pub is_in : Option ℕ → ℕ → Bool
is_in None b = false
is_in (Some c) b = c == b

-- a cell is among those that are touched, live or not
abbrev pub covers : Touched → ℕ → ℕ → Bool
covers t b o = is_at t.first b o || (is_at t.second b o || is_in t.block b)

-- a live cell that both touch
abbrev pub AreBoth : Touched → Touched → List Block → ℕ → ℕ → Type 0
AreBoth t u m b o = (covers t b o ≡ true) × ((covers u b o ≡ true) × IsSome (cell_at m b o))

-- the place, where the other one touches it and it is live
abbrev pub meet_at : Bool → Spot → Option Spot
meet_at true p = Some p
meet_at false p = None

abbrev pub meet : List Block → Option Spot → Touched → Option Spot
meet m None u = None
meet m (Some p) u = meet_at (covers u p.block p.offset && is_some (cell_at m p.block p.offset)) p

-- the first cell of the block that both touch
abbrev pub block_meet : List Block → Option ℕ → Touched → Option Spot
block_meet m None u = None
block_meet m (Some b) u = meet_at (is_in u.block b && is_some (cell_at m b 0)) (record { block = b; offset = 0 })

abbrev pub is_before : Spot → Spot → Bool
is_before p q = nat_lt p.block q.block || ((p.block == q.block) && nat_le p.offset q.offset)

-- the lesser of two places
abbrev pub lesser : Option Spot → Option Spot → Option Spot
lesser None q = q
lesser (Some p) None = Some p
lesser (Some p) (Some q) = cond (is_before p q) (Some p) (Some q)

-- the least live cell that both touch
abbrev pub common : List Block → Touched → Touched → Option Spot
common m t u = lesser (lesser (meet m t.first u) (meet m t.second u)) (lesser (lesser (meet m u.first t) (meet m u.second t)) (block_meet m t.block u))

-- the least cell at which they race
abbrev pub clash : List Block → Touched → Touched → Option Spot
clash m t u = cond (t.writes || u.writes) (common m t u) None

-- two touches race at a live cell: both touch it, and one writes
abbrev pub Clashes : Touched → Touched → List Block → ℕ → ℕ → Type 0
Clashes t u m b o = AreBoth t u m b o × ((t.writes || u.writes) ≡ true)

-- a place comes before a cell, or is it
abbrev pub IsUpToCell : Spot → ℕ → ℕ → Type 0
IsUpToCell p b o = (p.block < b) ⊎ ((p.block ≡ b) × (p.offset ≤ o))

-- the least cell at which two touches race
abbrev pub IsLeastClash : Option Spot → Touched → Touched → List Block → Type 0
IsLeastClash None t u m = (b o : ℕ) → Clashes t u m b o → ⊥
IsLeastClash (Some p) t u m = Clashes t u m p.block p.offset × ((b o : ℕ) → Clashes t u m b o → IsUpToCell p b o)
