use Rattle.vd_declared.proofs.Named.{owners_all, owners_more}
use Rattle.vd_declared.proofs.owners.Owners.of.Goals as goal

pub loop-d-preserved : goal.loop-d-preserved
loop-d-preserved c = owners_more c.args.declarations.now c.loop-d.d-index c.d-item.result c.as_bytes.result.now c.loop-d.owners c.add.new.self c.loop-d-test.true c.d-item.is c.as_bytes.ensures.value c.loop-d.invariant c.in_ok-add.ensures

pub returns : goal.returns
returns c = owners_all c.args.declarations.now c.loop-d.d-index c.loop-d.owners c.loop-d-test.false c.loop-d.invariant
