-- An index of what the threads' next statements touch: the touches by thread, and each place with its threads.
use Rattle.std.specs.Prelude.{◌≡◌, ℕ, ◌+◌, ◌<◌, ◌≤◌, nat_le, max, Bool, true, false, cond, ◌||◌, ◌==◌, List, length, slice_get, is_some, Option, None, Some, ◌⊎◌}
use Rattle.std.specs.Option.{unwrap_or}
use Rattle.std.specs.Ordering.{nat_cmp, ordering_then}
use Rattle.std.specs.declared.cmp.Ordering.{Ordering}
use Rattle.std.specs.BTreeSet.{BTreeSet, contains}
use Rattle.vd_clight.specs.declared.program.GlobalDef.{GlobalDef}
use Rattle.vd_mem.specs.Memory.{Block, cell_at}
use Rattle.vd_machine.specs.declared.answer.Spot.{Spot}
use Rattle.vd_machine.specs.declared.answer.Stepped.{Stepped}
use Rattle.vd_machine.specs.declared.answer.Stepped.TheVariants as stepped
use Rattle.vd_machine.specs.declared.touch.Touched.{Touched}
use Rattle.vd_machine.specs.declared.watch.Watch.{Watch}
use Rattle.vd_machine.specs.Machine.{Machine}
use Rattle.vd_machine.specs.Race.{Races}
use Rattle.vd_machine.specs.Rivals.{touch_at}
use Rattle.vd_machine.specs.Thread.{System}
use Rattle.vd_machine.specs.Touches.{nothing, is_at, covers, meet_at, Clashes}

-- a place in a block from a number on
abbrev pub spot_reaches : Option Spot → ℕ → Bool
spot_reaches None n = false
spot_reaches (Some p) n = nat_le n p.block

abbrev pub block_reaches : Option ℕ → ℕ → Bool
block_reaches None n = false
block_reaches (Some b) n = nat_le n b

-- a touch of a block from a number on
abbrev pub reaches : Touched → ℕ → Bool
reaches t n = spot_reaches t.first n || (spot_reaches t.second n || block_reaches t.block n)

-- the part of a touch that is at live cells
abbrev pub live_spot : List Block → Option Spot → Option Spot
live_spot m None = None
live_spot m (Some p) = meet_at (is_some (cell_at m p.block p.offset)) p

abbrev pub block_if : Bool → ℕ → Option ℕ
block_if true b = Some b
block_if false b = None

abbrev pub live_block : List Block → Option ℕ → Option ℕ
live_block m None = None
live_block m (Some b) = block_if (is_some (cell_at m b 0)) b

abbrev pub live : List Block → Touched → Touched
live m t = record { first = live_spot m t.first; second = live_spot m t.second; block = live_block m t.block; writes = t.writes }

-- a block, an offset and a thread, in their order
abbrev pub Place : Type 0
Place = ℕ × ℕ × ℕ

abbrev pub place_cmp : Place → Place → Ordering
place_cmp x y = ordering_then (ordering_then (nat_cmp x.0 y.0) (nat_cmp x.1 y.1)) (nat_cmp x.2 y.2)

-- a set has a place of a thread
abbrev pub has : BTreeSet Place → ℕ → ℕ → ℕ → Bool
has set b o k = contains place_cmp set (b, o, k)

-- up to two places
abbrev pub Two : Type 0
Two = Option Spot × Option Spot

abbrev pub is_either : Two → ℕ → ℕ → Bool
is_either two b o = is_at two.0 b o || is_at two.1 b o

-- the places that a statement touches one by one; where it looks; where it writes; and the start of the block that it touches whole
abbrev pub spots : Touched → Two
spots t = (t.first, t.second)

abbrev pub looks : Touched → Two
looks t = cond t.writes (None, None) (spots t)

abbrev pub writes : Touched → Two
writes t = cond t.writes (spots t) (None, None)

abbrev pub start_at : Option ℕ → Option Spot
start_at None = None
start_at (Some b) = Some (record { block = b; offset = 0 })

abbrev pub starts : Touched → Two
starts t = (start_at t.block, None)

-- the touch of a thread in a list, none past its end
abbrev pub touch_in : List Touched → ℕ → Touched
touch_in ts k = unwrap_or (slice_get ts k) nothing

-- a list of touches is another with one thread's touch changed, or added at the end
pub record IsNoted (ts : List Touched) (n : ℕ) (t : Touched) (us : List Touched) : Type 0 where
  pub touches : (k : ℕ) → touch_in us k ≡ cond (n == k) t (touch_in ts k)
  pub count : length us ≡ max (length ts) (n + 1)

-- a set has exactly the places of the touches in a list
abbrev pub Holds : BTreeSet Place → (Touched → Two) → List Touched → Type 0
Holds set f ts = (b o k : ℕ) → has set b o k ≡ is_either (f (touch_in ts k)) b o

-- the sets have exactly the places of the touches
pub record IsIndex (v : Watch) : Type 0 where
  pub looked : Holds v.looked looks v.touches.items
  pub written : Holds v.written writes v.touches.items
  pub freed : Holds v.freed starts v.touches.items

-- one index is another with one thread's touch changed, or added at the end
pub record IsWith (v : Watch) (n : ℕ) (t : Touched) (w : Watch) : Type 0 where
  pub index : IsIndex w
  pub noted : IsNoted v.touches.items n t w.touches.items

-- two touches have a cell in common, live or not, and one writes
pub record Meets (t u : Touched) (b o : ℕ) : Type 0 where
  pub first : covers t b o ≡ true
  pub second : covers u b o ≡ true
  pub writes : (t.writes || u.writes) ≡ true

-- a thread's touch has come into an index: it races with none there, and reaches no block from the index's number on
pub record Enters (globals : List GlobalDef) (s : System) (v : Watch) (n : ℕ) (w : Watch) : Type 0 where
  pub added : IsWith v n (touch_at globals s n) w
  pub blocks : w.blocks ≡ v.blocks
  pub apart : (k b o : ℕ) → Clashes (touch_at globals s n) (touch_in v.touches.items k) s.memory b o → ⊥
  pub below : (b o : ℕ) → covers (touch_at globals s n) b o ≡ true → b < v.blocks

-- the same of the next thread, where there is one
abbrev pub Joins : List GlobalDef → System → Watch → Watch → Type 0
Joins globals s v w =
    ((length v.touches.items < length s.threads) × Enters globals s v (length v.touches.items) w)
    ⊎ ((length s.threads ≤ length v.touches.items) × (w ≡ v))

-- the index has the touches of a state's threads, and none of them reaches a block from the index's number on
pub record Watches (globals : List GlobalDef) (s : System) (v : Watch) : Type 0 where
  pub index : IsIndex v
  pub touches : (k : ℕ) → touch_in v.touches.items k ≡ touch_at globals s k
  pub count : length v.touches.items ≡ length s.threads
  pub below : (k b o : ℕ) → covers (touch_at globals s k) b o ≡ true → b < v.blocks
  pub blocks : v.blocks ≤ length s.memory

-- the index has the touches of a state's threads, but for one thread and for at most one more that is not in it yet
pub record Follows (globals : List GlobalDef) (s : System) (v : Watch) (n : ℕ) : Type 0 where
  pub index : IsIndex v
  pub touches : (k : ℕ) → (k ≡ n → ⊥) → k < length v.touches.items → touch_in v.touches.items k ≡ touch_at globals s k
  pub least : length v.touches.items ≤ length s.threads
  pub most : length s.threads ≤ length v.touches.items + 1
  pub below : (k b o : ℕ) → covers (touch_in v.touches.items k) b o ≡ true → b < v.blocks
  pub blocks : v.blocks ≤ length s.memory

-- a thread races with no other one but for a given one
abbrev pub IsApart : List GlobalDef → System → ℕ → ℕ → Type 0
IsApart globals s n but = (k b o : ℕ) → (k ≡ n → ⊥) → (k ≡ but → ⊥) → Clashes (touch_at globals s n) (touch_at globals s k) s.memory b o → ⊥

-- the thread that made a turn races with none, and so does the one that it made, whose number is given
pub record IsCalm (globals : List GlobalDef) (s : System) (n new : ℕ) : Type 0 where
  pub one : IsApart globals s n n
  pub made : IsApart globals s new n

-- the index follows a turn: it is again that of the state, and the threads that changed race with none
pub record Followed (globals : List GlobalDef) (s : System) (v : Watch) (n : ℕ) (w : Watch) : Type 0 where
  pub watches : Watches globals s w
  pub calm : IsCalm globals s n (length v.touches.items)

-- the index is that of the machine after a turn, which has no race where the one before it has none
pub record IsStill (before after : Machine) (v : Watch) : Type 0 where
  pub watches : Watches after.program.globals after.system v
  pub calm : (Races before.program.globals before.system → ⊥) → Races after.program.globals after.system → ⊥

-- what an index becomes by a step of a thread, by what the step did
abbrev pub IsWatched : Machine → Stepped → Watch → ℕ → Watch → Type 0
IsWatched w stepped.Moved v n u = Followed w.program.globals w.system v n u
IsWatched w stepped.Blocked v n u = u ≡ v
IsWatched w stepped.Idle v n u = u ≡ v
IsWatched w (stepped.Finished x) v n u = ⊥
IsWatched w (stepped.Stuck m c) v n u = ⊥
