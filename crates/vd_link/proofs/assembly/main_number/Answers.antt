use Rattle.std.proofs.Common.{codes, sym, ◌∙◌}
use Rattle.std.specs.Str.{bytes_eq}
use Rattle.vd_link.proofs.Assembling.{position_at}
use Rattle.vd_link.proofs.assembly.main_number.Goals as goal

pub returns-then-is_called_main : goal.returns-then-is_called_main
returns-then-is_called_main c =
    position_at (λ f. bytes_eq f.name (codes "main")) c.args.fns.now c.loop-number.number c.index-fns-number.result c.loop-number-test.true c.index-fns-number.is c.loop-number.invariant (sym c.is_called_main.ensures ∙ c.if-is_called_main.true)
