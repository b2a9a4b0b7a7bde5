use Rattle.std.proofs.Common.{◌≡◌, ◌∙◌, ap, refl, Err}
use Rattle.vd_base.specs.declared.sink.SinkFault.TheVariants.{Failed}
use Rattle.vd_commands.proofs.Endings.{failed_puts}
use Rattle.vd_commands.proofs.Writing.{prefix_of}
use Rattle.vd_commands.proofs.ending.put_line.Goals as goal

pub returns-in-Err-Failed-clause-puts : goal.returns-in-Err-Failed-clause-puts
returns-in-Err-Failed-clause-puts g c =
    let failed : c.put_all.result ≡ Err Failed = c.in-Err-Failed.is ∙ ap Err c.in-Err-Failed.field-0-is in
    failed_puts c.args.line.now c.args.ending (record { written = g.E.Sink.written c.args.err.now; written_after = g.E.Sink.written c.put_all.new.self; faults = g.E.Sink.faults c.args.err.now; faults_after = g.E.Sink.faults c.put_all.new.self })
    (prefix_of (g.E.Sink.written c.args.err.now) (g.E.Sink.written c.put_all.new.self) c.args.line.now c.args.line.now refl (c.put_all.ensures.prefix failed)) (c.put_all.ensures.failed failed)
