-- The outcome of the snapshot that texts make.
use Rattle.std.proofs.Common.{◌≡◌, ◌↔◌, true, List, ℕ, Option, Some, None, Result, Ok, Err, IfOk, MatchOption, refl, subst}
use Rattle.std.specs.declared.alloc.AllocError.{AllocError}
use Rattle.vd_store.specs.declared.report.Outcome.{Outcome}
use Rattle.vd_store.specs.declared.report.Outcome.TheVariants as outcome
use Rattle.vd_check.specs.Form as form
use Rattle.vd_check.specs.Safety.{DefineSafeProgram, Promises}
use Rattle.vd_check.specs.Scratch.{Scratches}
use Rattle.vd_commands.specs.Answer.{AreCheckable, Checks, answer_of}
use Rattle.vd_commands.specs.Submission.{Entries, Submits}

-- an answer that all went well is that of an accepted outcome
safe_of : (snapshot : Entries) (link : List ℕ) (o : Outcome) → Promises snapshot o → (answer_of link o).success ≡ true → DefineSafeProgram snapshot
safe_of snapshot link (outcome.Accepted set report) promise h = promise
safe_of snapshot link (outcome.Rejected report) promise h = absurd (cc)
safe_of snapshot link outcome.NoLink promise h = absurd (cc)

scratched : (link : List ℕ) (texts : List (List ℕ)) (snapshot : Entries) (found : Option Outcome) → ((entries : Entries) → Submits texts entries ↔ (entries ≡ snapshot))
    → MatchOption found (form.HasForm snapshot → ⊥) (λ o. form.HasForm snapshot × Scratches snapshot link o × Promises snapshot o)
    → MatchOption found (AreCheckable texts → ⊥) (λ o. Checks link texts (answer_of link o))
scratched link texts snapshot None one outside = λ h. outside (subst (λ (s : Entries). form.HasForm s) ((one h.snapshot).0 h.submits) h.has_form)
scratched link texts snapshot (Some o) one given =
    record { snapshot = snapshot; submits = (one snapshot).1 refl; outcome = o; scratches = given.1; is = refl; safe = safe_of snapshot link o given.2 }

-- what the check of the snapshot finds is what the command answers
pub checks_found : (link : List ℕ) (texts : List (List ℕ)) (snapshot : Entries) (result : Result (Option Outcome) AllocError) → ((entries : Entries) → Submits texts entries ↔ (entries ≡ snapshot))
    → IfOk result (λ found. MatchOption found (form.HasForm snapshot → ⊥) (λ o. form.HasForm snapshot × Scratches snapshot link o × Promises snapshot o))
    → IfOk result (λ found. MatchOption found (AreCheckable texts → ⊥) (λ o. Checks link texts (answer_of link o)))
checks_found link texts snapshot (Ok found) one given = scratched link texts snapshot found one given
checks_found link texts snapshot (Err fault) one given = given
