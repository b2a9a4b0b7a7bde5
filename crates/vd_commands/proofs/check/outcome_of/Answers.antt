use Rattle.std.proofs.Common.{◌≡◌, ◌↔◌}
use Rattle.vd_commands.specs.Submission.{Entries, Submits}
use Rattle.vd_commands.proofs.Outcomes.{checks_found}
use Rattle.vd_commands.proofs.check.outcome_of.Goals as goal

pub returns-in-None : goal.returns-in-None
returns-in-None c =
    let none : (entries : Entries) → Submits c.args.texts entries → ⊥ = rw c.in-None.is at c.in_ok-snapshot.ensures in
    λ h. none h.snapshot h.submits

pub returns : goal.returns
returns c =
    let one : (entries : Entries) → Submits c.args.texts entries ↔ (entries ≡ c.in-Some.snapshot.texts) = rw c.in-Some.is at c.in_ok-snapshot.ensures in
    checks_found c.args.link.now c.args.texts c.in-Some.snapshot.texts c.try_scratch.result one c.try_scratch.ensures
