use Rattle.std.proofs.Common.{sym, ◌∙◌, ap}
use Rattle.std.proofs.Math.Numerals.{add-one}
use Rattle.vd_tokens.specs.Text.{starts_close}
use Rattle.vd_tokens.proofs.Runs.{closes_at, close_step}
use Rattle.vd_tokens.proofs.run.close.Goals as goal

pub returns-then-starts_close-clause-found : goal.returns-then-starts_close-clause-found
returns-then-starts_close-clause-found c = closes_at c.args.bytes.now c.loop-n.n (ap starts_close (sym c.split_at.ensures.back) ∙ sym c.if-starts_close.ensures) c.loop-n.invariant

pub loop-n-preserved : goal.loop-n-preserved
loop-n-preserved c = rw add-one (close_step c.args.bytes.now c.loop-n.n c.loop-n.invariant (ap starts_close (sym c.split_at.ensures.back) ∙ sym c.if-starts_close.ensures))
