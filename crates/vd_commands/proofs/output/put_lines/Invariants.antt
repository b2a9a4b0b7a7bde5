use Rattle.std.proofs.Common.{◌≤◌, take}
use Rattle.vd_base.specs.Sink.{Added}
use Rattle.vd_outline.specs.Lines.{joined}
use Rattle.vd_commands.proofs.output.put_lines.Given as goal

-- the lines so far were added
abbrev pub invariant-loop-line : goal.invariant-loop-line
invariant-loop-line g l = record {
  added : Added (g.K.Sink.written l.fn.out) (g.K.Sink.written l.out) (joined (take l.line-index l.lines));
  faults : g.K.Sink.faults l.fn.out ≤ g.K.Sink.faults l.out;
}
