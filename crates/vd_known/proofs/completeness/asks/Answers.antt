use Rattle.std.proofs.Common.{length, refl}
use Rattle.std.proofs.lemmas.Option.{slice_get_past, slice_get_read}
use Rattle.vd_known.proofs.LackLaws.{part_asks, no_part_asks}
use Rattle.vd_known.proofs.completeness.asks.Goals as goal

pub returns-in-Some : goal.returns-in-Some
returns-in-Some c = λ lines bodies.
    let v = c.args.view.now in
    part_asks lines v.parts.now v.own c.args.number c.in-Some.part.now c.as_slice.result.now _ (c.one_asks.ensures lines bodies)
    (slice_get_read v.parts.now (length v.parts.now) c.args.number c.in-Some.part.now refl c.in-Some.ensures.lookup.3.0 c.in-Some.ensures.lookup.1) c.as_slice.ensures

pub returns-in-None : goal.returns-in-None
returns-in-None c = λ lines bodies.
    let v = c.args.view.now in
    (λ e. absurd (cc), λ a. absurd (no_part_asks lines v.parts.now v.own c.args.number (slice_get_past v.parts.now c.args.number c.in-None.ensures.lookup.3) a))
