-- The words of the command line.
use Rattle.std.specs.Prelude.{ℕ, Bool, ◌&&◌, ◌||◌, List, [], ◌∷◌, Option, None, Some, cond, codes, length, nat_le, map, string_bytes}
use Rattle.std.specs.List.{list_all}
use Rattle.std.specs.Str.{bytes_eq}
use Rattle.vd_base.specs.Name.{is_name}
use Rattle.vd_commands.specs.declared.command.Words.{Words}
use Rattle.vd_commands.specs.declared.command.Words.TheVariants as words

-- a word, a file, or a text
abbrev pub Bytes : Type 0
Bytes = List ℕ

-- the words behind the program's name
abbrev pub CommandLine : Type 0
CommandLine = List Bytes

-- what the words ask for
pub data Command : Type 0 where
  -- the link and the files
  Check : Bytes → List Bytes → Command
  -- the link, the schedule and the files
  Play : Bytes → Bytes → List Bytes → Command
  -- a command that is not built yet
  Unbuilt : Command

-- a word that is not empty
abbrev pub is_filled : Bytes → Bool
is_filled word = nat_le 1 (length word)

-- at least one file, none of which is empty
abbrev pub are_files : List Bytes → Bool
are_files files = nat_le 1 (length files) && list_all is_filled files

-- `check LINK FILE..`
abbrev pub check_of : List Bytes → Option Command
check_of [] = None
check_of (link ∷ files) = cond (is_name link && are_files files) (Some (Check link files)) None

-- `play LINK SCHEDULE FILE..`
abbrev pub play_of : List Bytes → Option Command
play_of [] = None
play_of (link ∷ []) = None
play_of (link ∷ schedule ∷ files) = cond (is_name link && (is_filled schedule && are_files files)) (Some (Play link schedule files)) None

-- the first words of the commands that are not built yet
abbrev pub is_unbuilt : Bytes → Bool
is_unbuilt word = bytes_eq word (codes "session") || (bytes_eq word (codes "audit") || bytes_eq word (codes "gen"))

-- the command that the words are, if they are one
abbrev pub command_of : CommandLine → Option Command
command_of [] = None
command_of (word ∷ words) =
    cond (bytes_eq word (codes "check")) (check_of words)
    (cond (bytes_eq word (codes "play")) (play_of words)
    (cond (is_unbuilt word) (Some Unbuilt) None))

-- the files that the command reads, in order
abbrev pub files_of : Command → List Bytes
files_of (Check link files) = files
files_of (Play link schedule files) = schedule ∷ files
files_of Unbuilt = []

-- the command that the program read
abbrev pub command_read : Words → Command
command_read (words.Check link files) = Check link (map string_bytes files.now)
command_read (words.Play link schedule files) = Play link (string_bytes schedule.now) (map string_bytes files.now)
command_read words.Unbuilt = Unbuilt
