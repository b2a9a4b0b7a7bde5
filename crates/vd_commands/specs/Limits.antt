-- Limits over all texts that a command reads, beside the limit of bytes that each file has.
use Rattle.std.specs.Prelude.{◌≡◌, ◌⊎◌, ◌≤◌, ◌<◌, ℕ, ◌+◌, List, [], ◌∷◌, ◌++◌, length, codes}
use Rattle.std.specs.BTreeSet.{insert_key}
use Rattle.vd_schedule.specs.Schedule.{HasTooMany, turn_limit}
use Rattle.vd_store.specs.Texts.{name_order}
use Rattle.vd_commands.specs.Command.{Bytes, Command, Check, Play, Unbuilt}
use Rattle.vd_commands.specs.Submission.{IsHeaded, IsHeadless}

-- the most bytes of all files of texts together
abbrev pub byte_limit : ℕ
byte_limit = 268435456

-- the most names of texts
abbrev pub name_limit : ℕ
name_limit = 4096

-- the bytes of texts together; a file that is given twice counts twice
abbrev pub bytes_of : List Bytes → ℕ
bytes_of [] = 0
bytes_of (text ∷ texts) = length text + bytes_of texts

-- The name of a text joins the names so far, in the order of bytes, unless it is there. A text without a head line has none.
abbrev pub Joins : List Bytes → Bytes → List Bytes → Type 0
Joins names text after = ((headed : IsHeaded text) × (after ≡ insert_key name_order names headed.name)) ⊎ (IsHeadless text × (after ≡ names))

-- the names after those of the texts joined them
abbrev pub JoinAll : List Bytes → List Bytes → List Bytes → Type 0
JoinAll names [] after = after ≡ names
JoinAll names (text ∷ texts) after = (next : List Bytes) × Joins names text next × JoinAll next texts after

-- the texts have no more names than the limit
pub record HasFewNames (texts : List Bytes) : Type 0 where
  pub names : List Bytes
  pub are : JoinAll [] texts names
  pub few : length names ≤ name_limit

-- they have more
pub record HasManyNames (texts : List Bytes) : Type 0 where
  pub names : List Bytes
  pub are : JoinAll [] texts names
  pub many : name_limit < length names

-- The texts that were read, in the order of the words, pass no limit over all of them. The schedule counts for turns alone.
abbrev pub IsWithin : Command → List Bytes → Type 0
IsWithin (Check link files) texts = Unit {0}
IsWithin (Play link schedule files) [] = Unit {0}
IsWithin (Play link schedule files) (turns ∷ texts) = (HasTooMany turns → ⊥) × (bytes_of texts ≤ byte_limit) × HasFewNames texts
IsWithin Unbuilt texts = Unit {0}

-- the bytes of these texts pass their limit, or else their names do
abbrev pub PassesOver : List Bytes → Bytes → ℕ → Type 0
PassesOver texts what bound =
    ((what ≡ codes "bytes") × (bound ≡ byte_limit) × (byte_limit < bytes_of texts))
    ⊎ ((what ≡ codes "names") × (bound ≡ name_limit) × (bytes_of texts ≤ byte_limit) × HasManyNames texts)

-- what passes which limit, and the limit, where a text is read behind others that pass none
abbrev pub Passes : Command → List Bytes → Bytes → Bytes → ℕ → Type 0
Passes (Check link files) texts text what bound = ⊥
Passes (Play link schedule files) [] turns what bound = (what ≡ schedule) × (bound ≡ turn_limit) × HasTooMany turns
Passes (Play link schedule files) (turns ∷ texts) text what bound = PassesOver (texts ++ text ∷ []) what bound
Passes Unbuilt texts text what bound = ⊥
