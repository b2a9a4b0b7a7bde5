-- What checking a link over all texts at once gives.
use Rattle.std.specs.Prelude.{◌≡◌, ◌≢◌, ℕ, true, false, List, [], ◌∷◌, codes, Option, None, Some, if◌then◌else◌}
use Rattle.vd_check.specs.declared.form.Pair.{Pair}
use Rattle.vd_check.specs.declared.form.UnitParts.{UnitParts}
use Rattle.vd_check.specs.declared.report.Finding.{Finding}
use Rattle.vd_check.specs.declared.report.Failure.{Failure}
use Rattle.vd_store.specs.declared.report.Outcome.{Outcome}
use Rattle.vd_store.specs.declared.report.Outcome.TheVariants as outcome
use Rattle.vd_store.specs.declared.report.Report.{Report}
use Rattle.vd_store.specs.declared.work.Verdict.{Verdict}
use Rattle.vd_store.specs.declared.work.Verdict.TheVariants.{Accepted}
use Rattle.vd_store.specs.declared.work.WorkKind.TheVariants.{Header, Body}
use Rattle.vd_check.specs.Script.{HasVerdict}
use Rattle.vd_check.specs.Report.{are_accepted, report_lines}
use Rattle.vd_check.specs.Form.{Entry, AreTexts}

-- the works of a unit of the form in report order, the body with this verdict
abbrev pub findings_of : List ℕ → Verdict → List Finding
findings_of unit body = record { work = record { kind = Header; owner = unit; function = None }; verdict = Accepted }
    ∷ record { work = record { kind = Body; owner = unit; function = Some (codes "main") }; verdict = body } ∷ []

-- The works of a unit of the form with their verdicts. No condition of its header can fail: its sections are read,
-- declare main alone, and give main a specification, a function and a script.
pub record AreFindings (u : UnitParts) (findings : List Finding) : Type 0 where
  pub body : Verdict
  pub judged : HasVerdict u.spec.post u.typed u.steps body
  pub all : findings ≡ findings_of u.name body

-- the one link condition that can fail in the form: a line above is not ok
abbrev pub failure_of : List Finding → Option Failure
failure_of findings = if are_accepted findings then None else Some (record { condition = 9; words = [] })

-- the report of a link of the form over its unit
pub record Reports (p : Pair) (findings : List Finding) (r : Report) : Type 0 where
  pub found : AreFindings p.unit findings
  pub lines : r.lines ≡ report_lines findings p.link (failure_of findings)

-- the link and its unit, with their versions
abbrev pub linkset_of : Pair → List (List ℕ × ℕ)
linkset_of p = (p.link, p.link_version) ∷ (p.unit.name, p.unit_version) ∷ []

abbrev pub Gives : List ℕ → Pair → Outcome → Type 0
Gives asked p (outcome.Accepted set r) = (findings : List Finding) × (asked ≡ p.link) × Reports p findings r × (are_accepted findings ≡ true) × (set.parts ≡ linkset_of p)
Gives asked p (outcome.Rejected r) = (findings : List Finding) × (asked ≡ p.link) × Reports p findings r × (are_accepted findings ≡ false)
Gives asked p outcome.NoLink = asked ≢ p.link

-- what checking the link that is asked for gives
abbrev pub Scratches : List Entry → List ℕ → Outcome → Type 0
Scratches texts asked o = (p : Pair) × AreTexts texts p × Gives asked p o
