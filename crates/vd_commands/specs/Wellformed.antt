-- Texts outside their grammar: a schedule, and files without a head line.
use Rattle.std.specs.Prelude.{◌≡◌, ◌⊎◌, ℕ, List, [], ◌∷◌}
use Rattle.vd_machine.specs.declared.answer.Turn.{Turn}
use Rattle.vd_schedule.specs.Schedule.{IsSchedule, IsMalformedAt}
use Rattle.vd_commands.specs.Command.{Bytes, Command, Check, Play, Unbuilt}
use Rattle.vd_commands.specs.Submission.{IsHeaded, IsHeadless}

-- the first of the files, which hold these texts, whose text has no head line
abbrev pub IsFirstHeadless : List Bytes → List Bytes → Bytes → Type 0
IsFirstHeadless [] texts file = ⊥
IsFirstHeadless (first ∷ files) [] file = ⊥
IsFirstHeadless (first ∷ files) (text ∷ texts) file = ((file ≡ first) × IsHeadless text) ⊎ (IsHeaded text × IsFirstHeadless files texts file)

-- The first file in the order of the words that is outside its grammar, and its first malformed line, from 1.
-- A file without a head line is malformed at line 1.
abbrev pub IsMalformed : Command → List Bytes → Bytes → ℕ → Type 0
IsMalformed (Check link files) texts file line = ⊥
IsMalformed (Play link schedule files) [] file line = ⊥
IsMalformed (Play link schedule files) (turns ∷ texts) file line =
    ((file ≡ schedule) × IsMalformedAt turns line)
    ⊎ (((made : List Turn) × IsSchedule turns made) × (line ≡ 1) × IsFirstHeadless files texts file)
IsMalformed Unbuilt texts file line = ⊥

-- no file is outside its grammar
abbrev pub IsWellFormed : Command → List Bytes → Type 0
IsWellFormed command texts = (file : Bytes) (line : ℕ) → IsMalformed command texts file line → ⊥
