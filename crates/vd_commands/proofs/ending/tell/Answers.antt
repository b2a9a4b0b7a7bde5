use Rattle.std.proofs.Common.{ap}
use Rattle.vd_commands.specs.Call.{error_line}
use Rattle.vd_commands.specs.Seen.{SinkSeen}
use Rattle.vd_commands.proofs.Endings.{puts_tell, puts_keep}
use Rattle.vd_commands.proofs.ending.tell.Goals as goal

pub returns-in-CannotRead-clause-line : goal.returns-in-CannotRead-clause-line
returns-in-CannotRead-clause-line g c =
    let err : SinkSeen = record { written = g.E.Sink.written c.args.err.now; written_after = g.E.Sink.written c.put_made.new.err; faults = g.E.Sink.faults c.args.err.now; faults_after = g.E.Sink.faults c.put_made.new.err } in
    puts_tell _ c.args.ending c.put_made.result err (ap error_line c.in-CannotRead.is) (c.put_made.ensures.puts _ c.cannot_read_line.ensures)

pub returns-in-CannotRead-clause-same : goal.returns-in-CannotRead-clause-same
returns-in-CannotRead-clause-same g c =
    let err : SinkSeen = record { written = g.E.Sink.written c.args.err.now; written_after = g.E.Sink.written c.put_made.new.err; faults = g.E.Sink.faults c.args.err.now; faults_after = g.E.Sink.faults c.put_made.new.err } in
    puts_keep _ c.args.ending c.put_made.result err (c.put_made.ensures.puts _ c.cannot_read_line.ensures)

pub returns-in-Limit-clause-line : goal.returns-in-Limit-clause-line
returns-in-Limit-clause-line g c =
    let err : SinkSeen = record { written = g.E.Sink.written c.args.err.now; written_after = g.E.Sink.written c.put_made-in-Limit.new.err; faults = g.E.Sink.faults c.args.err.now; faults_after = g.E.Sink.faults c.put_made-in-Limit.new.err } in
    puts_tell _ c.args.ending c.put_made-in-Limit.result err (ap error_line c.in-Limit.is) (c.put_made-in-Limit.ensures.puts _ c.limit_line.ensures)

pub returns-in-Limit-clause-same : goal.returns-in-Limit-clause-same
returns-in-Limit-clause-same g c =
    let err : SinkSeen = record { written = g.E.Sink.written c.args.err.now; written_after = g.E.Sink.written c.put_made-in-Limit.new.err; faults = g.E.Sink.faults c.args.err.now; faults_after = g.E.Sink.faults c.put_made-in-Limit.new.err } in
    puts_keep _ c.args.ending c.put_made-in-Limit.result err (c.put_made-in-Limit.ensures.puts _ c.limit_line.ensures)

pub returns-in-Malformed-clause-line : goal.returns-in-Malformed-clause-line
returns-in-Malformed-clause-line g c =
    let err : SinkSeen = record { written = g.E.Sink.written c.args.err.now; written_after = g.E.Sink.written c.put_made-in-Malformed.new.err; faults = g.E.Sink.faults c.args.err.now; faults_after = g.E.Sink.faults c.put_made-in-Malformed.new.err } in
    puts_tell _ c.args.ending c.put_made-in-Malformed.result err (ap error_line c.in-Malformed.is) (c.put_made-in-Malformed.ensures.puts _ c.malformed_line.ensures)

pub returns-in-Malformed-clause-same : goal.returns-in-Malformed-clause-same
returns-in-Malformed-clause-same g c =
    let err : SinkSeen = record { written = g.E.Sink.written c.args.err.now; written_after = g.E.Sink.written c.put_made-in-Malformed.new.err; faults = g.E.Sink.faults c.args.err.now; faults_after = g.E.Sink.faults c.put_made-in-Malformed.new.err } in
    puts_keep _ c.args.ending c.put_made-in-Malformed.result err (c.put_made-in-Malformed.ensures.puts _ c.malformed_line.ensures)
