use Rattle.std.proofs.Common.{sym, ◌∙◌}
use Rattle.vd_scopes.proofs.Filling.{settling_begun, settling_more, settled}
use Rattle.vd_scopes.proofs.structs.settle.Goals as goal

pub loop-waiting-init : goal.loop-waiting-init
loop-waiting-init c = settling_begun c.args.seen c.args.structs.now

pub loop-waiting-preserved : goal.loop-waiting-preserved
loop-waiting-preserved c =
    settling_more c.args.seen c.args.structs.now c.loop-waiting.structs c.pass.new.structs c.loop-waiting.waiting c.as_slice.result.now c.in_ok-left.left c.as_slice.ensures c.loop-waiting.invariant c.in_ok-left.ensures

pub returns-then-len : goal.returns-then-len
returns-then-len c =
    settled c.args.seen c.args.structs.now c.loop-waiting.structs c.pass.new.structs c.loop-waiting.waiting c.as_slice.result.now c.in_ok-left.left c.as_slice.ensures
    (sym c.len.ensures ∙ (c.if-len.true ∙ c.len-in-loop-waiting.ensures)) c.loop-waiting.invariant c.in_ok-left.ensures
