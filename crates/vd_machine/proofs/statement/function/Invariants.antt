use Rattle.std.proofs.Common.{◌≡◌, drop}
use Rattle.std.specs.List.{find}
use Rattle.std.specs.Str.{bytes_eq}
use Rattle.vd_machine.proofs.statement.function.Given as goal

abbrev pub invariant-loop-number : goal.invariant-loop-number
invariant-loop-number l = find (λ f. bytes_eq f.name l.name) l.fns ≡ find (λ f. bytes_eq f.name l.name) (drop l.number l.fns)
