-- Lines of a schedule.
use Rattle.std.specs.Prelude.{◌≡◌, ℕ, ◌^◌, ◌<◌, ◌≤◌, Bool, true, false, List, [], ◌∷◌, ◌++◌, flat_map, decimal, All}
use Rattle.vd_schedule.specs.declared.entry.Entry.{Entry}

-- `1` where malloc gives a block, `0` where it gives the null pointer
abbrev pub pick_digit : Bool → ℕ
pick_digit true = 49
pick_digit false = 48

-- the thread, the pick and the count in decimal, without sign and leading zero, with one space between
abbrev pub line_of : Entry → List ℕ
line_of e = decimal e.thread ++ 32 ∷ pick_digit e.pick ∷ 32 ∷ decimal e.count

-- the numbers are below 2^32, and there is a turn
pub record IsEntry (e : Entry) : Type 0 where
  pub thread : e.thread < 2 ^ 32
  pub some : 1 ≤ e.count
  pub count : e.count < 2 ^ 32

-- the lines of entries, each ended by a line feed
abbrev pub text_of : List Entry → List ℕ
text_of entries = flat_map (λ e. line_of e ++ 10 ∷ []) entries

-- the first line is that of an entry
pub record BeginsWithEntry (bytes : List ℕ) : Type 0 where
  pub entry : Entry
  pub rest : List ℕ
  pub is : IsEntry entry
  pub cut : bytes ≡ line_of entry ++ 10 ∷ rest

-- these are the entries of the lines before the first malformed one, with which the rest begins; it is empty where no line is malformed
pub record AreBefore (bytes : List ℕ) (entries : List Entry) (rest : List ℕ) : Type 0 where
  pub cut : bytes ≡ text_of entries ++ rest
  pub each : All IsEntry entries
  pub stops : BeginsWithEntry rest → ⊥
