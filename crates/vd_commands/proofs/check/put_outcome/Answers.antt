use Rattle.vd_commands.specs.Seen.{SinkSeen}
use Rattle.vd_commands.proofs.Endings.{accepted_finishes, rejected_finishes, none_finishes}
use Rattle.vd_commands.proofs.check.put_outcome.Goals as goal

pub returns-in-Accepted-clause-finishes : goal.returns-in-Accepted-clause-finishes
returns-in-Accepted-clause-finishes g c =
    let seen : SinkSeen = record { written = g.K.Sink.written c.args.out.now; written_after = g.K.Sink.written c.put_lines.new.out; faults = g.K.Sink.faults c.args.out.now; faults_after = g.K.Sink.faults c.put_lines.new.out } in
    accepted_finishes c.args.link.now c.in-Accepted.field-0 c.in-Accepted.report c.args.outcome.now c.as_slice.result.now seen c.put_lines.result c.finish.result c.in-Accepted.is c.as_slice.ensures c.finish.ensures c.put_lines.ensures

pub returns-in-Rejected-clause-finishes : goal.returns-in-Rejected-clause-finishes
returns-in-Rejected-clause-finishes g c =
    let seen : SinkSeen = record { written = g.K.Sink.written c.args.out.now; written_after = g.K.Sink.written c.put_lines-in-Rejected.new.out; faults = g.K.Sink.faults c.args.out.now; faults_after = g.K.Sink.faults c.put_lines-in-Rejected.new.out } in
    rejected_finishes c.args.link.now c.in-Rejected.report c.args.outcome.now c.as_slice-in-Rejected.result.now seen c.put_lines-in-Rejected.result c.finish-in-Rejected.result c.in-Rejected.is c.as_slice-in-Rejected.ensures c.finish-in-Rejected.ensures c.put_lines-in-Rejected.ensures

pub returns-in-Ok-clause-finishes : goal.returns-in-Ok-clause-finishes
returns-in-Ok-clause-finishes g c =
    let seen : SinkSeen = record { written = g.K.Sink.written c.args.out.now; written_after = g.K.Sink.written c.put_line.new.out; faults = g.K.Sink.faults c.args.out.now; faults_after = g.K.Sink.faults c.put_line.new.out } in
    none_finishes c.args.link.now c.in-Ok.line c.args.outcome.now seen c.put_line.result c.finish-in-Ok.result c.in-NoLink.is c.in-Ok.ensures c.finish-in-Ok.ensures c.put_line.ensures
