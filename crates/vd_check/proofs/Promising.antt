-- What an accepted outcome promises.
use Rattle.std.proofs.Common.{◌≡◌, ℕ, true, List, Some, sym, ◌∙◌, ap}
use Rattle.vd_form.specs.Sections.{Finds}
use Rattle.vd_check.specs.declared.form.Pair.{Pair}
use Rattle.vd_check.specs.declared.form.UnitParts.{UnitParts}
use Rattle.vd_check.specs.declared.report.Finding.{Finding}
use Rattle.vd_store.specs.declared.report.Outcome.{Outcome}
use Rattle.vd_store.specs.declared.report.Outcome.TheVariants as outcome
use Rattle.vd_store.specs.declared.work.Verdict.{Verdict}
use Rattle.vd_store.specs.declared.work.Verdict.TheVariants.{Accepted, Refused}
use Rattle.vd_check.specs.Form.{Entry, AreTexts}
use Rattle.vd_check.specs.Report.{are_accepted}
use Rattle.vd_check.specs.Script.{HasVerdict}
use Rattle.vd_check.specs.Scratch.{findings_of, AreFindings, Gives}
use Rattle.vd_check.specs.Safety.{IsSafeFor, HasSafeProgram, Promises}
use Rattle.vd_check.proofs.Safety.{accepted_are_safe}
use Rattle.vd_check.proofs.Wholeness.{typed_is_whole}

accepted_is_safe : (u : UnitParts) (body : Verdict) → HasVerdict u.spec.post u.typed u.steps body → are_accepted (findings_of u.name body) ≡ true → IsSafeFor u.spec.post u.typed
accepted_is_safe u Accepted judged all = accepted_are_safe u.spec.post u.typed u.steps judged
accepted_is_safe u (Refused at rule condition) judged all = absurd (cc)

safe_unit : (texts : List Entry) (p : Pair) (findings : List Finding) → AreTexts texts p → AreFindings p.unit findings → are_accepted findings ≡ true → HasSafeProgram p.unit
safe_unit texts p findings are found all =
    let typed = are.pair.unit.2.typed.is in
    record {
      whole = typed_is_whole are.pair.unit.2.typed.text p.unit.typed typed;
      safe = accepted_is_safe p.unit found.body found.judged (sym (ap are_accepted found.all) ∙ all);
    }

pub promises : (texts : List Entry) (asked : List ℕ) (p : Pair) (o : Outcome) → Finds (AreTexts texts) (Some p) → Gives asked p o → Promises texts o
promises texts asked p (outcome.Accepted set r) one gives =
    record { pair = p; texts_are = one.0; no_other = one.1; safe = safe_unit texts p gives.0 one.0 gives.2.found gives.3 }
promises texts asked p (outcome.Rejected r) one gives = tt
promises texts asked p outcome.NoLink one gives = tt
