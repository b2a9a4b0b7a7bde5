-- What a call sees of the outside and leaves there.
use Rattle.std.specs.Prelude.{◌≡◌, ◌≤◌, ℕ, List, ◌++◌, Option}
use Rattle.vd_base.specs.Shelf.{Holding}
use Rattle.vd_base.specs.Sink.{Added}

-- what a shelf tells, and its counts before and after
pub record ShelfSeen : Type 0 where
  pub held : List ℕ → Holding
  pub taken : ℕ
  pub taken_after : ℕ
  pub faults : ℕ
  pub faults_after : ℕ

-- what a sink has, where it tells that, and its count, before and after
pub record SinkSeen : Type 0 where
  pub written : Option (List ℕ)
  pub written_after : Option (List ℕ)
  pub faults : ℕ
  pub faults_after : ℕ

-- nothing was read from the shelf
abbrev pub IsUnread : ShelfSeen → Type 0
IsUnread shelf = (shelf.taken_after ≡ shelf.taken) × (shelf.faults_after ≡ shelf.faults)

-- nothing was put on the sink
abbrev pub IsUntouched : SinkSeen → Type 0
IsUntouched sink = (sink.written_after ≡ sink.written) × (sink.faults_after ≡ sink.faults)

-- the text was added
abbrev pub Adds : SinkSeen → List ℕ → Type 0
Adds sink text = Added sink.written sink.written_after text

-- a front of the text was added
abbrev pub AddsPrefix : SinkSeen → List ℕ → Type 0
AddsPrefix sink text = (front rest : List ℕ) × (text ≡ front ++ rest) × Adds sink front

-- no count falls
pub record CountsGrow (shelf : ShelfSeen) (out err : SinkSeen) : Type 0 where
  pub taken : shelf.taken ≤ shelf.taken_after
  pub shelf_faults : shelf.faults ≤ shelf.faults_after
  pub out_faults : out.faults ≤ out.faults_after
  pub err_faults : err.faults ≤ err.faults_after
