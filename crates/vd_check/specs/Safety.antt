-- What an accepted check promises: the program of the texts is whole, and safe under every schedule.
use Rattle.std.specs.Prelude.{◌≡◌, ℕ, true, List, [], ◌∷◌}
use Rattle.vd_clight.specs.declared.program.Program.{Program}
use Rattle.vd_clight.specs.declared.typed.TypedFn.{TypedFn}
use Rattle.vd_clight.specs.Whole.{is_whole}
use Rattle.vd_logic.specs.declared.assertion.Assertion.{Assertion}
use Rattle.vd_logic.specs.declared.step.Step.{Step}
use Rattle.vd_machine.specs.Safe.{IsSafe}
use Rattle.vd_check.specs.declared.form.Pair.{Pair}
use Rattle.vd_check.specs.declared.form.UnitParts.{UnitParts}
use Rattle.vd_store.specs.declared.report.Outcome.{Outcome}
use Rattle.vd_store.specs.declared.report.Outcome.TheVariants as outcome
use Rattle.vd_store.specs.declared.work.Verdict.TheVariants.{Accepted}
use Rattle.vd_check.specs.Form.{Entry, AreTexts}
use Rattle.vd_check.specs.Meaning.{Satisfies}
use Rattle.vd_check.specs.Script.{HasVerdict}
use Rattle.vd_form.specs.Sections.{IsTyped}

-- the program of one function, its main
abbrev pub program_of : TypedFn → Program
program_of f = record { fns = f ∷ []; globals = []; main = 0 }

-- under every schedule main is never stuck and never races, and what it returns satisfies the postcondition
abbrev pub IsSafeFor : Assertion → TypedFn → Type 0
IsSafeFor post f = IsSafe (Satisfies post) (program_of f)

-- an accepted body is safe
abbrev pub AcceptedAreSafe : Type 0
AcceptedAreSafe = (post : Assertion) (f : TypedFn) (steps : List Step) → HasVerdict post f steps Accepted → IsSafeFor post f

-- a typed function of the form makes a whole program
abbrev pub TypedAreWhole : Type 0
TypedAreWhole = (text : List ℕ) (f : TypedFn) → IsTyped text f → is_whole (program_of f) ≡ true

-- the program of a unit of the form is whole, and safe for main's postcondition
pub record HasSafeProgram (u : UnitParts) : Type 0 where
  pub whole : is_whole (program_of u.typed) ≡ true
  pub safe : IsSafeFor u.spec.post u.typed

-- the texts are one unit and one link, and the program that they define is whole and safe
pub record DefineSafeProgram (texts : List Entry) : Type 0 where
  pub pair : Pair
  pub texts_are : AreTexts texts pair
  pub no_other : (other : Pair) → AreTexts texts other → other ≡ pair
  pub safe : HasSafeProgram pair.unit

-- what an outcome promises of the program that the texts define
abbrev pub Promises : List Entry → Outcome → Type 0
Promises texts (outcome.Accepted set report) = DefineSafeProgram texts
Promises texts (outcome.Rejected report) = Unit {0}
Promises texts outcome.NoLink = Unit {0}
