use Rattle.vd_code.proofs.Coding.{added_more, none_added, none_whole}
use Rattle.vd_code.proofs.code.add_sections.Goals as goal

pub loop-section-init : goal.loop-section-init
loop-section-init c = none_added c.args.index.now.scope.now c.args.code.now

pub returns-then-not-branch : goal.returns-then-not-branch
returns-then-not-branch c = none_whole c.args.index.now.scope.now c.args.sections.now c.loop-section.section-index c.section-item.result c.loop-section-test.true c.section-item.is (rw c.if-not-branch.true at c.in_ok-add.ensures)

pub loop-section-preserved : goal.loop-section-preserved
loop-section-preserved c =
    added_more c.args.index.now.scope.now c.args.sections.now c.loop-section.section-index c.section-item.result c.args.code.now c.loop-section.code c.add.new.code c.loop-section-test.true c.section-item.is c.loop-section.invariant (rw c.if-not-branch.false at c.in_ok-add.ensures)
