use Rattle.std.proofs.Common.{sym, ◌∙◌, ap, rules}
use Rattle.std.specs.List.{list_any}
use Rattle.std.specs.Str.{bytes_eq}
use Rattle.vd_known.specs.Names.{names_of}
use Rattle.vd_known.proofs.TwinLaws.{twins_found, twins_kept, names_next}
use Rattle.vd_known.proofs.twice.has_twins.Goals as goal

pub returns-then-has : goal.returns-then-has
returns-then-has c = twins_found c.args.fields.now c.loop-field.field-index c.field-item.result (names_of c.loop-field.names) c.loop-field-test.true c.field-item.is c.loop-field.invariant.1
    (ap (λ n. list_any (bytes_eq n) (names_of c.loop-field.names)) (sym c.as_bytes.ensures.value) ∙ (sym c.has.ensures ∙ (search rules)))

pub loop-field-preserved : goal.loop-field-preserved
loop-field-preserved c = (
  c.in_ok-add.ensures.set,
  c.in_ok-add.ensures.names ∙ names_next c.args.fields.now c.loop-field.field-index c.field-item.result (names_of c.loop-field.names) c.as_bytes-in-loop-field.result.now c.loop-field-test.true c.field-item.is c.loop-field.invariant.1 c.as_bytes-in-loop-field.ensures.value,
  twins_kept c.args.fields.now c.loop-field.field-index c.field-item.result (names_of c.loop-field.names) c.loop-field-test.true c.field-item.is c.loop-field.invariant.1
      (ap (λ n. list_any (bytes_eq n) (names_of c.loop-field.names)) (sym c.as_bytes.ensures.value) ∙ (sym c.has.ensures ∙ (search rules))) c.loop-field.invariant.2,
)
