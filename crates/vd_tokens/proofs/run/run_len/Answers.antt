use Rattle.std.proofs.Common.{length, ◌<◌, sym, ◌∙◌, arith}
use Rattle.std.proofs.Math.Numerals.{add-one}
use Rattle.vd_tokens.specs.Head.{passes}
use Rattle.vd_tokens.proofs.Runs.{all_take}
use Rattle.vd_tokens.proofs.run.run_len.Goals as goal

pub run-preserved : goal.run-preserved
run-preserved c =
    let lt : c.run.n < length c.args.bytes.now = omega arith in
    (omega arith, rw add-one (all_take (passes c.args.run) c.args.bytes.now c.run.n lt c.run.invariant.1 (sym c.passes.ensures ∙ c.if-passes.true)))
