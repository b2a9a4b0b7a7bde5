use Rattle.std.proofs.Common.{◌≡◌, true, refl, sym, ◌∙◌, subst}
use Rattle.std.proofs.lemmas.Bool.{false≢true}
use Rattle.vd_machine.specs.Watching.{is_either, touch_in}
use Rattle.vd_machine.proofs.Watched.{spots_apart}
use Rattle.vd_machine.proofs.watch.Watch.meets_spots.Goals as goal

pub returns-then-touched : goal.returns-then-touched
returns-then-touched c = λ far k b o h g w.
    spots_apart c.args.self.now c.args.touched (touch_in c.args.self.now.touches.items k) k b o c.requires refl
    (λ i. c.is_either_met.ensures c.if-is_either_met.false b o k (subst (λ x. is_either x b o ≡ true) (sym c.spots.ensures) i))
    (λ one i. c.is_either_met-then-touched.ensures far b o k (subst (λ x. is_either x b o ≡ true) (sym c.spots-then-touched.ensures) i)) h g w

pub returns-else-touched : goal.returns-else-touched
returns-else-touched c = λ far k b o h g w.
    spots_apart c.args.self.now c.args.touched (touch_in c.args.self.now.touches.items k) k b o c.requires refl
    (λ i. c.is_either_met.ensures c.if-is_either_met.false b o k (subst (λ x. is_either x b o ≡ true) (sym c.spots.ensures) i))
    (λ one i. absurd (false≢true (sym far ∙ one))) h g w
