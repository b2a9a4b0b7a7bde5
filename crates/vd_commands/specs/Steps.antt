-- What the parts of a call leave.
use Rattle.std.specs.Prelude.{◌≡◌, ◌⊎◌, ◌≤◌, ℕ, Bool, true, false, List, [], Ok, Err, Result}
use Rattle.vd_base.specs.Cause.{Rose}
use Rattle.vd_base.specs.declared.sink.SinkFault.{SinkFault}
use Rattle.vd_base.specs.declared.sink.SinkFault.TheVariants as sink
use Rattle.vd_commands.specs.Command.{Command}
use Rattle.vd_commands.specs.Reading.{IsReached, IsUnreadable, IsTooLong, PassesLimit, file_limit}
use Rattle.vd_commands.specs.Seen.{ShelfSeen, SinkSeen, Adds, AddsPrefix}
use Rattle.vd_commands.specs.declared.ending.Ending.{Ending}
use Rattle.vd_commands.specs.declared.ending.Ending.TheVariants as ending
use Rattle.vd_commands.specs.declared.files.ReadFault.{ReadFault}
use Rattle.vd_commands.specs.declared.files.ReadFault.TheVariants as read

-- why a file was not read
abbrev pub FileStops : List ℕ → ShelfSeen → ReadFault → Type 0
FileStops file shelf (read.CannotRead named) = (named.now ≡ file) × IsUnreadable shelf file
FileStops file shelf (read.Limit what bound) = (what.now ≡ file) × (bound ≡ file_limit) × IsTooLong shelf file
FileStops file shelf read.Memory = Unit {0}

-- why the files of a command were not read
abbrev pub ReadStops : Command → ShelfSeen → ReadFault → Type 0
ReadStops command shelf (read.CannotRead named) = IsReached command shelf.held named.now × IsUnreadable shelf named.now
ReadStops command shelf (read.Limit what bound) = PassesLimit command shelf what.now bound
ReadStops command shelf read.Memory = Unit {0}

-- what a write of a text leaves
abbrev pub Writes : List ℕ → SinkSeen → Result Unit SinkFault → Type 0
Writes text seen (Ok x) = Adds seen text × (seen.faults ≤ seen.faults_after)
Writes text seen (Err sink.Failed) = AddsPrefix seen text × Rose seen.faults seen.faults_after × (seen.faults ≤ seen.faults_after)
Writes text seen (Err sink.Memory) = AddsPrefix seen text × (seen.faults ≤ seen.faults_after)

-- how a call ends that writes this text as an answer of this kind
abbrev pub Finishes : Bool → List ℕ → SinkSeen → Ending → Type 0
Finishes success text seen ending.Accepted = (success ≡ true) × Adds seen text
Finishes success text seen ending.Rejected = (success ≡ false) × Adds seen text
Finishes success text seen ending.CannotWrite = Rose seen.faults seen.faults_after × AddsPrefix seen text
Finishes success text seen ending.Memory = AddsPrefix seen text
Finishes success text seen _ = ⊥

-- what putting the line of an ending leaves, and the ending that comes of it
abbrev pub PutsLine : List ℕ → Ending → Ending → SinkSeen → Type 0
PutsLine line before after err = ((after ≡ before) × AddsPrefix err line × ((Rose err.faults err.faults_after → ⊥) → Adds err line)) ⊎ ((after ≡ ending.Memory) × Adds err [])
