-- What a schedule that was read is.
use Rattle.std.proofs.Common.{◌≡◌, inl, inr, ℕ, List, Result, Ok, Err, IfOk, IfErr, IsErrAnd, MatchResult, sym, ◌∙◌, subst}
use Rattle.vd_base.specs.Shelf.{Holding}
use Rattle.vd_machine.specs.declared.answer.Turn.{Turn}
use Rattle.vd_schedule.specs.Schedule.{IsSchedule, HasTooMany, IsMalformedAt, IsMemory, IsOrMemory}
use Rattle.vd_schedule.specs.declared.schedule.ScheduleFault.{ScheduleFault}
use Rattle.vd_schedule.specs.declared.schedule.ScheduleFault.TheVariants.{TooMany, Bad}
use Rattle.vd_commands.specs.Gathering.{IsScheduleOf, TurnsStop}
use Rattle.vd_commands.specs.Reading.{IsRead}
use Rattle.vd_commands.specs.Seen.{ShelfSeen}
use Rattle.vd_commands.specs.Steps.{ReadStops}
use Rattle.vd_commands.specs.Command.{Play}
use Rattle.vd_commands.specs.declared.files.ReadFault.{ReadFault}
use Rattle.vd_commands.specs.declared.inputs.Schedule.{Schedule}
use Rattle.vd_commands.specs.declared.inputs.Schedule.TheVariants as schedule
use Rattle.vd_commands.proofs.ReadLaws.{turns_stop}

abbrev Answer : Type 0
Answer = Result (List Turn) ScheduleFault

-- what was read is not one of two faults
not_fault : (turns : List Turn) (why : ScheduleFault) (r : Answer) → r ≡ Ok turns → IsOrMemory r (Err why) → ⊥
not_fault turns why r is (inl e) = let both : Ok turns ≡ Err why = sym is ∙ e in absurd (cc)
not_fault turns why r is (inr m) = subst (λ (x : Answer). IsErrAnd x IsMemory) is m

not_many : (line : ℕ) (r : Answer) → r ≡ Err (Bad line) → IsOrMemory r (Err TooMany) → ⊥
not_many line r is (inl e) = let both : Err (Bad line) ≡ Err TooMany = sym is ∙ e in absurd (cc)
not_many line r is (inr m) = subst (λ (x : Answer). IsErrAnd x IsMemory) is m

pub read_turns : (bytes : List ℕ) (turns : List Turn) (r : Result (List Turn) ScheduleFault) → r ≡ Ok turns → IfOk r (λ ts. IsSchedule bytes ts) → (HasTooMany bytes → IsOrMemory r (Err TooMany))
    → ((line : ℕ) → IsMalformedAt bytes line → IsOrMemory r (Err (Bad line))) → IsScheduleOf bytes (schedule.Turns turns)
read_turns bytes turns r is all beyond malformed = (
  λ many. not_fault turns TooMany r is (beyond many),
  record {
    is = subst (λ (x : Answer). IfOk x (λ ts. IsSchedule bytes ts)) is all;
    formed = λ line bad. not_fault turns (Bad line) r is (malformed line bad);
  },
)

pub read_bad : (bytes : List ℕ) (line : ℕ) (r : Result (List Turn) ScheduleFault) → r ≡ Err (Bad line) → (HasTooMany bytes → IsOrMemory r (Err TooMany)) → IsMalformedAt bytes line
    → IsScheduleOf bytes (schedule.Malformed line)
read_bad bytes line r is beyond bad = (λ many. not_many line r is (beyond many), bad)

-- the schedule of a file
pub file_schedule : (held : List ℕ → Holding) (file text bytes named : List ℕ) (r : Result Schedule ReadFault) → IsRead held file text → bytes ≡ text
    → MatchResult r (IsScheduleOf bytes) (TurnsStop bytes named) → IfOk r (λ s. (t : List ℕ) × IsRead held file t × IsScheduleOf t s)
file_schedule held file text bytes named (Ok s) one is given = (text, one, subst (λ b. IsScheduleOf b s) is given)
file_schedule held file text bytes named (Err e) one is given = tt

pub file_turns_stop : (link file text bytes named : List ℕ) (files : List (List ℕ)) (shelf : ShelfSeen) (r : Result Schedule ReadFault) → IsRead shelf.held file text → bytes ≡ text → named ≡ file
    → MatchResult r (IsScheduleOf bytes) (TurnsStop bytes named) → IfErr r (ReadStops (Play link file files) shelf)
file_turns_stop link file text bytes named files shelf (Ok s) one is same given = tt
file_turns_stop link file text bytes named files shelf (Err e) one is same given =
    turns_stop link file text files shelf e one (subst (λ n. TurnsStop text n e) same (subst (λ b. TurnsStop b named e) is given))

-- a schedule that was read has no more turns than the limit
pub few_turns : (bytes : List ℕ) (s : Schedule) → IsScheduleOf bytes s → HasTooMany bytes → ⊥
few_turns bytes (schedule.Turns turns) is many = is.0 many
few_turns bytes (schedule.Malformed line) is many = is.0 many
