use Rattle.std.proofs.Common.{◌≡◌, true, take}
use Rattle.std.specs.List.{list_all}
use Rattle.vd_linkage.specs.Form.{is_plain_section}
use Rattle.vd_linkage.proofs.form.are_plain_sections.Given as goal

abbrev pub invariant-loop-section : goal.invariant-loop-section
invariant-loop-section l = list_all (λ s. is_plain_section s.kind) (take l.section-index l.fn.sections) ≡ true
