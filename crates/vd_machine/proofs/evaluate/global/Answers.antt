use Rattle.std.specs.Str.{bytes_eq}
use Rattle.std.proofs.lemmas.Iterator.Adapters.{position_from-zero}
use Rattle.vd_machine.proofs.evaluate.global.Goals as goal

pub loop-block-init : goal.loop-block-init
loop-block-init c = position_from-zero (λ g. bytes_eq g.name c.args.name.now) c.args.globals.now
