use Rattle.vd_code.proofs.Coding.{same_scope}
use Rattle.vd_code.proofs.code.add_scoped.Goals as goal

pub returns : goal.returns
returns c = same_scope c.in_ok-index.index.scope.now c.args.scope.now c.args.sections.now c.args.code.now c.add_sections.new.code c.add_sections.result c.in_ok-index.ensures.scope c.add_sections.ensures
