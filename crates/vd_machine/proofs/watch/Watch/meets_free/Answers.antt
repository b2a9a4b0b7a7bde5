use Rattle.std.proofs.Common.{◌≡◌, true, refl, sym, subst}
use Rattle.vd_machine.specs.Touches.{is_in}
use Rattle.vd_machine.specs.Watching.{touch_in}
use Rattle.vd_machine.proofs.Watched.{free_apart}
use Rattle.vd_machine.proofs.watch.Watch.meets_free.Goals as goal

pub returns : goal.returns
returns c = λ far k b o h g.
    free_apart c.args.self.now c.args.spot (touch_in c.args.self.now.touches.items k) k b o c.requires refl
    (λ i. c.is_block_met.ensures far b 0 k (subst (λ x. is_in x b ≡ true) (sym c.block.ensures) i)) h g
