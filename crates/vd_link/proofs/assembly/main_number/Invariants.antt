use Rattle.std.proofs.Common.{◌≡◌, None, codes, take}
use Rattle.std.specs.List.{position}
use Rattle.std.specs.Str.{bytes_eq}
use Rattle.vd_link.proofs.assembly.main_number.Given as goal

abbrev pub invariant-loop-number : goal.invariant-loop-number
invariant-loop-number l = position (λ f. bytes_eq f.name (codes "main")) (take l.number l.fns) ≡ None
