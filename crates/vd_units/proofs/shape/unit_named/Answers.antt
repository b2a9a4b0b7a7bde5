use Rattle.vd_units.proofs.Shapes.{again_answered, each_answered}
use Rattle.vd_units.proofs.shape.unit_named.Goals as goal

pub returns-in-Some : goal.returns-in-Some
returns-in-Some c =
    each_answered c.args.index.now c.args.counts.now c.args.name.now c.as_bytes-name.result.now c.as_bytes-name.ensures.value c.in-Some.field-0 (λ pairs is. c.in-Some.ensures pairs is) c.outlined.result c.outlined.ensures

pub returns-in-None : goal.returns-in-None
returns-in-None c = again_answered c.args.index.now c.args.counts.now c.args.name.now c.as_bytes-name.result.now c.as_bytes-name.ensures.value (λ pairs is. c.in-None.ensures pairs is)
