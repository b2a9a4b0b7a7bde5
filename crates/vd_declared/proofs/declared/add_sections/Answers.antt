use Rattle.std.proofs.Common.{ap, ◌∙◌, refl}
use Rattle.std.proofs.lemmas.Option.{MatchOption-at_none, MatchOption-at_some}
use Rattle.vd_declared.specs.declared.declared.Declaration.{Declaration}
use Rattle.vd_declared.specs.Listed.{IsOf}
use Rattle.vd_declared.proofs.Listing.{adds_declaring, adds_none, adds_silent}
use Rattle.vd_declared.proofs.declared.add_sections.Goals as goal
use Rattle.vd_declared.proofs.declared.add_sections.Goals.{in-Some+in_ok-push, in_default}

pub loop-at-init : goal.loop-at-init
loop-at-init c = adds_none c.args.unit c.args.found.now.items

pub loop-at-preserved : goal.loop-at-preserved
loop-at-preserved c =
    let ss = c.args.sections.now in
    let n = c.loop-at.at in
    let s = c.index-sections-at.result in
    let old = c.args.found.now.items in
    let mid = c.loop-at.found.items in
    let new = c.match-branch-2.found.items in
    elim c.match-branch-2.branch [
      | in-Some+in_ok-push w ↦
          let d : Declaration = record { space = w.in-Some.space; name = w.in-Some.name; unit = c.args.unit; section = n } in
          let is : IsOf c.args.unit n s d = record { declares = MatchOption-at_some _ _ (w.in-Some.space, w.in-Some.name) w.in-Some.is c.in_ok-space.ensures; of_unit = refl; of_section = refl } in
          adds_declaring c.args.unit ss n s d old mid new c.loop-at-test.true c.index-sections-at.is is c.loop-at.invariant (ap (λ v. v.items) w.found-is ∙ w.in_ok-push.ensures.items)
      | in_default w ↦ adds_silent c.args.unit ss n s old mid new c.loop-at-test.true c.index-sections-at.is (MatchOption-at_none _ _ w.in_default.is c.in_ok-space.ensures) c.loop-at.invariant (ap (λ v. v.items) w.found-is)
    ]
