use Rattle.std.proofs.Common.{◌++◌, ◌∷◌, [], arith, take, add-one}
use Rattle.vd_outline.specs.Lines.{joined}
use Rattle.vd_commands.proofs.Writing.{lines_stop, joined_more, added_more}
use Rattle.vd_commands.proofs.output.put_lines.Goals as goal

pub returns-in-Err : goal.returns-in-Err
returns-in-Err g c = lines_stop c.args.lines.now c.loop-line.line-index c.line-item.result (g.K.Sink.written c.args.out.now) (g.K.Sink.written c.loop-line.out) (g.K.Sink.written c.put_line.new.out)
    (g.K.Sink.faults c.args.out.now) (g.K.Sink.faults c.loop-line.out) (g.K.Sink.faults c.put_line.new.out) c.in-Err.fault c.loop-line-test.true c.line-item.is c.loop-line.invariant.added c.loop-line.invariant.faults c.in-Err.ensures

pub loop-line-preserved : goal.loop-line-preserved
loop-line-preserved g c = record {
  added = rw (add-one, joined_more c.args.lines.now c.loop-line.line-index c.line-item.result c.loop-line-test.true c.line-item.is)
      (added_more (g.K.Sink.written c.args.out.now) (g.K.Sink.written c.loop-line.out) (g.K.Sink.written c.put_line.new.out) (joined (take c.loop-line.line-index c.args.lines.now)) (c.line-item.result ++ 10 ∷ []) c.loop-line.invariant.added c.in-Ok.ensures.0);
  faults = omega (arith, c.in-Ok.ensures.1, c.loop-line.invariant.faults);
}
