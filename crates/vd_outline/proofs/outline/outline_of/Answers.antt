use Rattle.std.proofs.Common.{◌≡◌, ap, sym, ◌∙◌, subst, Err}
use Rattle.vd_outline.specs.declared.outline.OutlineFault.TheVariants.{Bad}
use Rattle.vd_outline.specs.Outline.{Bytes, HasHead, head_line}
use Rattle.vd_outline.proofs.TextLaws.{head_of_outline, outlines, one_outline, sections_within, told_bad, told_memory}
use Rattle.vd_outline.proofs.outline.outline_of.Goals as goal

pub returns-in-Ok-None-clause-no_head : goal.returns-in-Ok-None-clause-no_head
returns-in-Ok-None-clause-no_head c = λ is.
    let none = rw c.in-Ok-None.field-0-is at c.in-Ok-None.ensures in
    subst (λ t. (kind : _) (name : Bytes) → HasHead t kind name → ⊥) c.as_bytes-bytes.ensures none

pub fault_of-requires : goal.fault_of-requires
fault_of-requires c = λ left is.
    let head = c.in-Ok-Some.head in
    let read = rw c.in-Ok-Some.field-0-is at c.in-Ok-Some.ensures in
    sections_within head.0 head.2.now left (head_line head.0 head.1) c.as_bytes-bytes.result.now read.0 (c.in-Err-read_sections.ensures.bad left (ap Err is))

pub returns-in-Ok-None-clause-only : goal.returns-in-Ok-None-clause-only
returns-in-Ok-None-clause-only c = λ o whole.
    let none = rw c.in-Ok-None.field-0-is at c.in-Ok-None.ensures in
    none o.kind o.name (subst (λ t. HasHead t o.kind o.name) (sym c.as_bytes-bytes.ensures) (head_of_outline c.args.text.now o whole))

pub returns-in-Ok-clause-only : goal.returns-in-Ok-clause-only
returns-in-Ok-clause-only c = λ other whole.
    let head = c.in-Ok-Some.head in
    let read = rw c.in-Ok-Some.field-0-is at c.in-Ok-Some.ensures in
    one_outline c.args.text.now _ other (outlines c.args.text.now head.0 head.1 head.2.now c.in-Ok.sections (sym c.as_bytes-bytes.ensures ∙ read.0) read.1 c.in-Ok.ensures.sections) whole

pub returns-in-Err-read_sections-clause-bad : goal.returns-in-Err-read_sections-clause-bad
returns-in-Err-read_sections-clause-bad c = λ place is.
    let head = c.in-Ok-Some.head in
    let read = rw c.in-Ok-Some.field-0-is at c.in-Ok-Some.ensures in
    let same : c.fault_of.result ≡ Bad place = cc in
    told_bad c.args.text.now c.as_bytes-bytes.result.now head.0 head.1 head.2.now c.in-Err-read_sections.fault place c.as_bytes-bytes.ensures (sym c.as_bytes-bytes.ensures ∙ read.0) read.1
    (λ left e. c.in-Err-read_sections.ensures.bad left (ap Err e)) (c.fault_of.ensures.bad place same)

pub returns-in-Err-read_sections-clause-only : goal.returns-in-Err-read_sections-clause-only
returns-in-Err-read_sections-clause-only c = λ o whole.
    let head = c.in-Ok-Some.head in
    let read = rw c.in-Ok-Some.field-0-is at c.in-Ok-Some.ensures in
    told_memory c.args.text.now c.as_bytes-bytes.result.now head.0 head.1 head.2.now c.in-Err-read_sections.fault c.fault_of.result o
    c.as_bytes-bytes.ensures (sym c.as_bytes-bytes.ensures ∙ read.0) read.1
    (λ left e. c.in-Err-read_sections.ensures.bad left (ap Err e)) c.fault_of.ensures.head c.fault_of.ensures.bad whole
