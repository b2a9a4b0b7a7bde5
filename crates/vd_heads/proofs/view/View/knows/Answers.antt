use Rattle.std.proofs.Common.{ap, sym, ◌∙◌}
use Rattle.std.specs.List.{find}
use Rattle.std.specs.Option.{is_some}
use Rattle.vd_heads.specs.Views.{is_marked, spots_of}
use Rattle.vd_heads.proofs.Meanings.{knows_seen}
use Rattle.vd_heads.proofs.view.View.knows.Goals as goal

pub returns : goal.returns
returns c =
    let v = c.args.self.now in
    let k = knows_seen v.parts.now v.own c.args.space c.args.name.now v.closure.items c.requires.closure in
    let places = c.spots.ensures ∙ ap (spots_of v.parts.now c.args.space) c.as_bytes.ensures.value in
    let same = c.is_some.ensures ∙ ap is_some (c.first_seen.ensures ∙ ap (find (λ spot. is_marked v.closure.items spot.part)) places) in
    (λ h. k.0 (sym same ∙ h), λ h. same ∙ k.1 h)
