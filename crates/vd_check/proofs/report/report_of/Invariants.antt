use Rattle.std.proofs.Common.{◌≡◌, map, take}
use Rattle.vd_check.specs.Report.{finding_text}
use Rattle.vd_check.proofs.report.report_of.Given as goal

abbrev pub invariant-loop-finding : goal.invariant-loop-finding
invariant-loop-finding l = l.lines ≡ map finding_text (take l.finding-index l.findings)
