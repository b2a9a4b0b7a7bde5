-- How a run's call ends.
use Rattle.std.proofs.Common.{◌≡◌, ◌≤◌, inl, inr, refl, ℕ, List, ◌∷◌, Some, All, sym, subst}
use Rattle.vd_base.specs.Shelf.{Holding}
use Rattle.vd_linkage.specs.Form.{IsPlainText}
use Rattle.vd_machine.specs.declared.answer.Turn.{Turn}
use Rattle.vd_schedule.specs.Schedule.{HasTooMany, IsMalformedAt}
use Rattle.vd_commands.specs.Answer.{Answer, Plays, written_text}
use Rattle.vd_commands.specs.Call.{HasMalformed, Means}
use Rattle.vd_commands.specs.Command.{Play, command_of}
use Rattle.vd_commands.specs.Gathering.{IsRunRead, IsSoleSchedule}
use Rattle.vd_commands.specs.Limits.{HasFewNames, bytes_of, byte_limit}
use Rattle.vd_commands.specs.Reading.{AreRead, IsRead}
use Rattle.vd_commands.specs.Seen.{ShelfSeen, SinkSeen, IsUntouched}
use Rattle.vd_commands.specs.Steps.{Finishes}
use Rattle.vd_commands.specs.Submission.{IsHeaded}
use Rattle.vd_commands.specs.Wellformed.{IsFirstHeadless, IsWellFormed}
use Rattle.vd_commands.specs.declared.ending.Ending.{Ending}
use Rattle.vd_commands.specs.declared.ending.Ending.TheVariants as ending
use Rattle.vd_commands.proofs.Endings.{finish_means}
use Rattle.vd_commands.proofs.ReadLaws.{read_of_later}
use Rattle.vd_commands.proofs.Submitting.{none_headless}

-- the files of a run, of which the schedule was read first
pub run_read : (words : List (List ℕ)) (shelf : ShelfSeen) (now : List ℕ → Holding) (link file : List ℕ) (files : List (List ℕ)) (bytes : List ℕ) (texts : List (List ℕ)) → command_of words ≡ Some (Play link file files)
    → ((name : List ℕ) → now name ≡ shelf.held name) → IsRead shelf.held file bytes → (HasTooMany bytes → ⊥) → AreRead now files texts → bytes_of texts ≤ byte_limit → HasFewNames texts
    → IsRunRead words shelf link file files bytes texts
run_read words shelf now link file files bytes texts asked same first few all short names =
    record { asked = asked; read = (first.0, first.1, read_of_later shelf.held now files texts same all); within = (few, short, names) }

-- a schedule and texts in their grammar have no malformed line
pub well_formed : (link file : List ℕ) (files : List (List ℕ)) (bytes : List ℕ) (texts : List (List ℕ)) (turns : List Turn) → IsSoleSchedule bytes turns → All IsHeaded texts
    → IsWellFormed (Play link file files) (bytes ∷ texts)
well_formed link file files bytes texts turns sole headed named line (inl bad) = sole.formed line bad.1
well_formed link file files bytes texts turns sole headed named line (inr first) = none_headless files texts named headed first.2

-- the texts are outside the form
pub outside_means : (words : List (List ℕ)) (shelf : ShelfSeen) (out : SinkSeen) (link file : List ℕ) (files : List (List ℕ)) (bytes : List ℕ) (texts : List (List ℕ)) (turns : List Turn)
    → IsRunRead words shelf link file files bytes texts → IsSoleSchedule bytes turns → All IsHeaded texts → (All IsPlainText texts → ⊥) → IsUntouched out → Means ending.Unbuilt words shelf out
outside_means words shelf out link file files bytes texts turns run sole headed outside kept =
    (record { command = Play link file files; asked = run.asked; outside = record { texts = bytes ∷ texts; read = run.read; within = run.within; formed = well_formed link file files bytes texts turns sole headed; outside = outside } }, kept)

-- the answer of a run was written, whole or in part
pub run_means : (words : List (List ℕ)) (shelf : ShelfSeen) (out : SinkSeen) (link file : List ℕ) (files : List (List ℕ)) (bytes : List ℕ) (texts : List (List ℕ)) (answer : Answer) (e : Ending)
    → IsRunRead words shelf link file files bytes texts → Plays link bytes texts answer → Finishes answer.success (written_text answer) out e → Means e words shelf out
run_means words shelf out link file files bytes texts answer e run plays finishes =
    finish_means words shelf out answer e (record { command = Play link file files; asked = run.asked; texts = bytes ∷ texts; read = run.read; within = run.within; answers = plays }) finishes

-- the schedule is malformed
pub bad_schedule : (words : List (List ℕ)) (shelf : ShelfSeen) (link file : List ℕ) (files : List (List ℕ)) (bytes : List ℕ) (texts : List (List ℕ)) (word : List ℕ) (line : ℕ) → word ≡ file
    → IsRunRead words shelf link file files bytes texts → IsMalformedAt bytes line → HasMalformed words shelf word line
bad_schedule words shelf link file files bytes texts word line same run bad =
    record { command = Play link file files; asked = run.asked; texts = bytes ∷ texts; read = run.read; within = run.within; malformed = inl (same, bad) }

-- a file has no head line
pub headless_file : (words : List (List ℕ)) (shelf : ShelfSeen) (link file : List ℕ) (files : List (List ℕ)) (bytes : List ℕ) (texts : List (List ℕ)) (turns : List Turn) (named word : List ℕ) → word ≡ named
    → IsRunRead words shelf link file files bytes texts → IsSoleSchedule bytes turns → IsFirstHeadless files texts named → HasMalformed words shelf word 1
headless_file words shelf link file files bytes texts turns named word same run sole first =
    record { command = Play link file files; asked = run.asked; texts = bytes ∷ texts; read = run.read; within = run.within; malformed = inr ((turns, sole.is), refl, subst (λ n. IsFirstHeadless files texts n) (sym same) first) }
