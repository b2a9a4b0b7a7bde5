use Rattle.std.proofs.Common.{◌≡◌, drop}
use Rattle.std.specs.List.{position, position_from}
use Rattle.std.specs.Str.{bytes_eq}
use Rattle.vd_machine.proofs.evaluate.global.Given as goal

abbrev pub invariant-loop-block : goal.invariant-loop-block
invariant-loop-block l = position (λ g. bytes_eq g.name l.name) l.globals ≡ position_from (λ g. bytes_eq g.name l.name) l.block (drop l.block l.globals)
