use Rattle.std.proofs.Common.{subst}
use Rattle.vd_outline.specs.Lines.{joined}
use Rattle.vd_commands.specs.Seen.{SinkSeen}
use Rattle.vd_commands.specs.Steps.{Writes}
use Rattle.vd_commands.proofs.play.put_played.Goals as goal

pub returns-clause-finishes : goal.returns-clause-finishes
returns-clause-finishes g c =
    let seen : SinkSeen = record { written = g.K.Sink.written c.args.out.now; written_after = g.K.Sink.written c.put_lines.new.out; faults = g.K.Sink.faults c.args.out.now; faults_after = g.K.Sink.faults c.put_lines.new.out } in
    c.finish.ensures (joined c.args.played.now.lines) seen (subst (λ ls. Writes (joined ls) seen c.put_lines.result) c.as_slice.ensures c.put_lines.ensures)
