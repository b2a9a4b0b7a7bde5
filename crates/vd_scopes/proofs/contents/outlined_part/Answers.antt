use Rattle.vd_scopes.proofs.Placing.{outlined_says}
use Rattle.vd_scopes.proofs.contents.outlined_part.Goals as goal

pub returns : goal.returns
returns c = λ text outlines.
    outlined_says text c.args.outline c.in_ok-line.line c.len.result c.as_slice.result.now c.in_ok-sections.sections c.in_ok-line.ensures c.len.ensures c.as_slice.ensures outlines c.in_ok-sections.ensures
