-- What reading the files of a command gives.
use Rattle.std.specs.Prelude.{◌≡◌, ◌⊎◌, ◌≤◌, ◌<◌, ℕ, ◌+◌, List, [], ◌∷◌, ◌++◌, length}
use Rattle.vd_base.specs.Cause.{Rose, RoseBy}
use Rattle.vd_base.specs.Shelf.{Holding, Absent, Holds, Agrees}
use Rattle.vd_commands.specs.Command.{Command, files_of}
use Rattle.vd_commands.specs.Limits.{IsWithin, Passes}
use Rattle.vd_commands.specs.Seen.{ShelfSeen}

-- the most bytes that a file may have
abbrev pub file_limit : ℕ
file_limit = 1048576

-- the shelf tells that these files hold these texts, each within the limit
abbrev pub AreHeld : (List ℕ → Holding) → List (List ℕ) → List (List ℕ) → Type 0
AreHeld held [] [] = Unit {0}
AreHeld held [] (text ∷ texts) = ⊥
AreHeld held (file ∷ files) [] = ⊥
AreHeld held (file ∷ files) (text ∷ texts) = (held file ≡ Holds text) × (length text ≤ file_limit) × AreHeld held files texts

-- these texts were read from the files, each within the limit: where the shelf tells what a file holds, it is that
abbrev pub AreRead : (List ℕ → Holding) → List (List ℕ) → List (List ℕ) → Type 0
AreRead held [] [] = Unit {0}
AreRead held [] (text ∷ texts) = ⊥
AreRead held (file ∷ files) [] = ⊥
AreRead held (file ∷ files) (text ∷ texts) = Agrees (held file) text × (length text ≤ file_limit) × AreRead held files texts

-- the file is one of the command's, and those before it were read and pass no limit
pub record IsReached (command : Command) (held : List ℕ → Holding) (file : List ℕ) : Type 0 where
  pub before : List (List ℕ)
  pub after : List (List ℕ)
  pub split : files_of command ≡ before ++ file ∷ after
  pub texts : List (List ℕ)
  pub read : AreRead held before texts
  pub within : IsWithin command texts

-- the count of failures rose, or the shelf tells that it doesn't hold the file
abbrev pub IsUnreadable : ShelfSeen → List ℕ → Type 0
IsUnreadable shelf file = Rose shelf.faults shelf.faults_after ⊎ (shelf.held file ≡ Absent)

-- more bytes than the limit were taken, and what the shelf tells of the file is longer
pub record IsTooLong (shelf : ShelfSeen) (file : List ℕ) : Type 0 where
  pub taken : RoseBy (file_limit + 1) shelf.taken shelf.taken_after
  pub longer : (bytes : List ℕ) → shelf.held file ≡ Holds bytes → file_limit < length bytes
  pub present : shelf.held file ≡ Absent → ⊥

-- these bytes were read from the file, which is within its limit: where the shelf tells what it holds, it is that
abbrev pub IsRead : (List ℕ → Holding) → List ℕ → List ℕ → Type 0
IsRead held file text = Agrees (held file) text × (length text ≤ file_limit)

-- what passes which limit, at the first file in the order of the words where one is passed, with a case for each kind of limit
pub data PassesLimit (command : Command) (shelf : ShelfSeen) (what : List ℕ) (bound : ℕ) : Type 0 where
  -- the file that could not be read, by its bytes
  file_bytes : bound ≡ file_limit → IsReached command shelf.held what → IsTooLong shelf what → PassesLimit command shelf what bound
  -- the texts up to that of a file that was read, together
  together : (file text : List ℕ) (reached : IsReached command shelf.held file) → IsRead shelf.held file text → Passes command reached.texts text what bound
      → PassesLimit command shelf what bound
