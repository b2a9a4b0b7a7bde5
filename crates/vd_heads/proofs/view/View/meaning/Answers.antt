use Rattle.std.proofs.Common.{◌==◌, ap, sym, ◌∙◌}
use Rattle.std.specs.List.{find}
use Rattle.vd_heads.specs.Views.{is_marked, spots_of}
use Rattle.vd_heads.proofs.Meanings.{means_own, means_seen, means_none}
use Rattle.vd_heads.proofs.view.View.meaning.Goals as goal

pub returns-in-Some : goal.returns-in-Some
returns-in-Some c =
    let v = c.args.self.now in
    let places = c.spots-spots.ensures ∙ ap (spots_of v.parts.now c.args.space) c.as_bytes.ensures.value in
    means_own v.parts.now v.own c.args.space c.args.name.now c.in-Some.own (sym (c.in-Some.ensures ∙ ap (find (λ spot. spot.part == v.own)) places)) _ c.content_at.ensures

pub returns-in-Some-first_seen : goal.returns-in-Some-first_seen
returns-in-Some-first_seen c =
    let v = c.args.self.now in
    let places = c.spots-spots.ensures ∙ ap (spots_of v.parts.now c.args.space) c.as_bytes.ensures.value in
    means_seen v.parts.now v.own c.args.space c.args.name.now v.closure.items c.requires.closure (sym (c.in-None.ensures ∙ ap (find (λ spot. spot.part == v.own)) places)) c.in-Some-first_seen.seen
    (sym (c.in-Some-first_seen.ensures ∙ ap (find (λ spot. is_marked v.closure.items spot.part)) places)) _ c.content_at-in-Some-first_seen.ensures

pub returns-in-None-first_seen : goal.returns-in-None-first_seen
returns-in-None-first_seen c =
    let v = c.args.self.now in
    let places = c.spots-spots.ensures ∙ ap (spots_of v.parts.now c.args.space) c.as_bytes.ensures.value in
    means_none v.parts.now v.own c.args.space c.args.name.now v.closure.items c.requires.closure (sym (c.in-None.ensures ∙ ap (find (λ spot. spot.part == v.own)) places))
    (sym (c.in-None-first_seen.ensures ∙ ap (find (λ spot. is_marked v.closure.items spot.part)) places))
