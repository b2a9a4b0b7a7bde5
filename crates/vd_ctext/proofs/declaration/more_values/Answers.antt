use Rattle.std.proofs.Common.{sym, ◌∙◌}
use Rattle.vd_ctext.proofs.Values.{more_step}
use Rattle.vd_ctext.proofs.declaration.more_values.Goals as goal

pub found-preserved : goal.found-preserved
found-preserved c =
    more_step _ _ _ _ _ _ _ _ _ c.in_ok-push.ensures.ok c.found.invariant (sym c.goes_on.ensures.test ∙ c.found-test.true) c.in_ok-take.ensures.takes c.in_ok-init_value.ensures.reads
