-- What a command answers of the texts that its files hold.
use Rattle.std.specs.Prelude.{◌≡◌, Bool, true, false, List, [], ◌∷◌, ◌++◌, codes, length, All, Option, None, Some}
use Rattle.vd_clight.specs.declared.program.Program.{Program}
use Rattle.vd_machine.specs.declared.answer.Turn.{Turn}
use Rattle.vd_machine.specs.declared.answer.Outcome.{Outcome as RunOutcome}
use Rattle.vd_machine.specs.Machine.{RunsTo}
use Rattle.vd_linkage.specs.Form.{IsPlainText}
use Rattle.vd_linkage.specs.Only.{IsOnly}
use Rattle.vd_linkage.specs.Program.{IsProgram}
use Rattle.vd_outline.specs.Lines.{joined}
use Rattle.vd_schedule.specs.Schedule.{IsSchedule}
use Rattle.vd_store.specs.declared.report.Outcome.{Outcome}
use Rattle.vd_store.specs.declared.report.Outcome.TheVariants as outcome
use Rattle.vd_check.specs.Form as form
use Rattle.vd_check.specs.Safety.{DefineSafeProgram}
use Rattle.vd_check.specs.Scratch.{Scratches}
use Rattle.vd_commands.specs.Command.{Bytes, Command, Check, Play, Unbuilt}
use Rattle.vd_commands.specs.Play.{goes_well, lines_of}
use Rattle.vd_commands.specs.Submission.{Entries, Submits}

-- whether all went well, and the lines written
pub record Answer : Type 0 where
  pub success : Bool
  pub lines : List Bytes

-- what an answer writes: its lines, each with a line feed
abbrev pub written_text : Answer → Bytes
written_text a = joined a.lines

-- ---- check

-- what `check` answers by an outcome: the report, or that there is no such link
abbrev pub answer_of : Bytes → Outcome → Answer
answer_of link (outcome.Accepted linkset report) = record { success = true; lines = report.lines }
answer_of link (outcome.Rejected report) = record { success = false; lines = report.lines }
answer_of link outcome.NoLink = record { success = false; lines = (codes "no link " ++ link) ∷ [] }

-- two texts that make a snapshot of the form that is checked today
pub record AreCheckable (texts : List Bytes) : Type 0 where
  pub two : length texts ≡ 2
  pub snapshot : Entries
  pub submits : Submits texts snapshot
  pub has_form : form.HasForm snapshot

-- what `check` answers of the texts: the outcome of the snapshot that they make
pub record Checks (link : Bytes) (texts : List Bytes) (answer : Answer) : Type 0 where
  pub snapshot : Entries
  pub submits : Submits texts snapshot
  pub outcome : Outcome
  pub scratches : Scratches snapshot link outcome
  pub is : answer ≡ answer_of link outcome
  -- the texts are one unit and one link, whose program is whole. Under every schedule it is never stuck and never races, and
  -- what main returns satisfies its postcondition
  pub safe : answer.success ≡ true → DefineSafeProgram snapshot

-- ---- play

-- what `play` answers of a run
abbrev pub run_answer : RunOutcome → Answer
run_answer o = record { success = goes_well o; lines = lines_of o }

-- what `play` answers where the link has no program
abbrev pub no_program : Answer
no_program = record { success = false; lines = codes "no program" ∷ [] }

-- the answer is that of the program's run under the schedule, or that there is no program
abbrev pub IsPlayed : Option Program → List Turn → Answer → Type 0
IsPlayed None turns answer = answer ≡ no_program
IsPlayed (Some program) turns answer = (o : RunOutcome) × RunsTo program turns o × (answer ≡ run_answer o)

-- what `play` answers of a schedule and the texts: the run of the program that the link has over the snapshot that they make
pub record Plays (link : Bytes) (schedule : Bytes) (texts : List Bytes) (answer : Answer) : Type 0 where
  pub turns : List Turn
  pub scheduled : IsSchedule schedule turns
  pub plain : All IsPlainText texts
  pub snapshot : Entries
  pub submits : Submits texts snapshot
  pub program : Option Program
  pub defined : IsOnly (IsProgram snapshot link) program
  pub played : IsPlayed program turns answer

-- ---- commands

-- the texts have the form that the command takes today
abbrev pub HasForm : Command → List Bytes → Type 0
HasForm (Check link files) texts = AreCheckable texts
HasForm (Play link schedule files) [] = ⊥
HasForm (Play link schedule files) (turns ∷ texts) = All IsPlainText texts
HasForm Unbuilt texts = ⊥

-- what the command answers of the texts of its files
abbrev pub Answers : Command → List Bytes → Answer → Type 0
Answers (Check link files) texts answer = Checks link texts answer
Answers (Play link schedule files) [] answer = ⊥
Answers (Play link schedule files) (turns ∷ texts) answer = Plays link turns texts answer
Answers Unbuilt texts answer = ⊥
