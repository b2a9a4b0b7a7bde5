use Rattle.std.proofs.Common.{◌≡◌, true, false, length, rules, subst}
use Rattle.vd_outline.specs.Reading.{IsHeader, SectionStops}
use Rattle.vd_outline.specs.Seen.{has}
use Rattle.vd_outline.proofs.ReadLaws.{section_read, stopped_seen, stopped_inside}
use Rattle.vd_outline.proofs.reading.read_section.Goals as goal

pub returns-in_ok-text-in-Ok-clause-section : goal.returns-in_ok-text-in-Ok-clause-section
returns-in_ok-text-in-Ok-clause-section c =
    let header : IsHeader c.args.kind c.in-Some.line.now c.in-Some-2.section_kind c.in-Some-2.name = search rules in
    rw (c.out.ensures, c.hold-name.ensures)
    (section_read c.args.kind c.args.bytes.now c.in-Some.line.now c.in-Some.lines.now _ _ c.in-Ok.body _ c.in-Some.ensures.0 header c.in-Ok.ensures (search rules))

pub returns-in-Err-clause-bad : goal.returns-in-Err-clause-bad
returns-in-Err-clause-bad c = λ left is.
    let header : IsHeader c.args.kind c.in-Some.line.now c.in-Some-2.section_kind c.in-Some-2.name = search rules in
    let new : has c.args.seen.now c.in-Some.line.now ≡ false = search rules in
    let at : c.in-Err.left ≡ left = cc in
    subst (SectionStops c.args.kind (has c.args.seen.now) c.args.bytes.now) at
    (stopped_inside c.args.kind (has c.args.seen.now) c.args.bytes.now c.in-Some.line.now c.in-Some.lines.now _ _ c.in-Err.left c.in-Some.ensures.0 header new c.in-Err.ensures)

pub returns-then-not-is_new-clause-bad : goal.returns-then-not-is_new-clause-bad
returns-then-not-is_new-clause-bad c = λ left is.
    let old : has c.args.seen.now c.in-Some.line.now ≡ true = search rules in
    let at : length c.args.bytes.now ≡ left = cc in
    stopped_seen c.args.kind (has c.args.seen.now) c.args.bytes.now c.in-Some.line.now c.in-Some.lines.now left c.in-Some.ensures.0 c.in-Some.ensures.1 old at
