use Rattle.std.proofs.Common.{◌≡◌, ◌+◌, true, false, sym, ◌∙◌, subst}
use Rattle.vd_sized.specs.Seen.{AreAdded, AreSeenBefore}
use Rattle.vd_sized.proofs.Seeing.{part_seen, part_unseen, all_seen}
use Rattle.vd_sized.proofs.order.structs_seen.Goals as goal
use Rattle.vd_sized.proofs.order.structs_seen.Goals.{then-sees+in_ok-add_structs, else-sees}

no : false ≡ true → ⊥
no e = cc

pub loop-number-preserved : goal.loop-number-preserved
loop-number-preserved c = elim c.if-sees.branch [
  | then-sees+in_ok-add_structs w ↦ subst (AreSeenBefore c.args.view.now (c.loop-number.number + 1)) (sym w.seen-is)
      (part_seen c.args.view.now c.loop-number.number c.part-item.result c.loop-number.seen c.loop-number-test.true c.part-item.is c.loop-number.invariant w.add_structs.new.seen
      (subst (λ s. AreAdded c.args.view.now s c.loop-number.seen w.add_structs.new.seen) w.as_slice.ensures w.in_ok-add_structs.ensures))
  | else-sees w ↦ subst (AreSeenBefore c.args.view.now (c.loop-number.number + 1)) (sym w.seen-is)
      (part_unseen c.args.view.now c.loop-number.number c.part-item.result c.loop-number.seen c.loop-number-test.true c.part-item.is c.loop-number.invariant
      (λ r. no (sym w.if-sees.false ∙ (c.sees.ensures ∙ (c.requires.closure c.loop-number.number).1 (c.loop-number-test.true, r)))))
]

pub returns : goal.returns
returns c = all_seen c.args.view.now c.loop-number.number c.loop-number.seen c.loop-number-test.false c.loop-number.invariant
