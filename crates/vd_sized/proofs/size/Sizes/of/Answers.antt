use Rattle.std.proofs.Common.{sym, ◌∙◌, subst}
use Rattle.std.specs.List.{All}
use Rattle.vd_sized.specs.Seen.{IsMeant}
use Rattle.vd_sized.specs.Sizes.{AreEnough}
use Rattle.vd_sized.proofs.Completing.{no_cells, settled}
use Rattle.vd_sized.proofs.size.Sizes.of.Goals as goal

pub pass-requires-clause-waiting : goal.pass-requires-clause-waiting
pass-requires-clause-waiting c = subst (All (IsMeant c.args.view.now)) (sym c.as_slice.ensures) c.in_ok-order.ensures

pub returns : goal.returns
returns c = record {
  counted = c.in_ok-settle.ensures.counted;
  all = λ t ts d w. no_cells c.args.view.now c.settle.new.self (settled c.args.view.now c.pass.new.self c.settle.new.self c.in_ok-seen.seen c.requires.one c.in_ok-seen.ensures c.in_ok-settle.ensures) d w;
  enough = subst (AreEnough c.args.view.now) (sym (c.in_ok-settle.ensures.most ∙ c.in_ok-pass.ensures.most)) c.most_values.ensures;
}
