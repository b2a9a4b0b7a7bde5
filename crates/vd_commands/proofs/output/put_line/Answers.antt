use Rattle.std.proofs.Common.{◌∙◌, ◌++◌, ◌∷◌, []}
use Rattle.vd_commands.proofs.Writing.{put_writes}
use Rattle.vd_commands.proofs.output.put_line.Goals as goal

pub returns : goal.returns
returns g c = put_writes (g.K.Sink.written c.args.out.now) (g.K.Sink.written c.put_all.new.self) (g.K.Sink.faults c.args.out.now) (g.K.Sink.faults c.put_all.new.self)
    c.as_bytes.result.now (c.args.line.now ++ 10 ∷ []) c.put_all.result (c.as_bytes.ensures ∙ c.in-Ok.ensures) c.put_all.ensures
