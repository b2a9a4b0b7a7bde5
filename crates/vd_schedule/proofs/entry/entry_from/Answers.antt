use Rattle.std.proofs.Common.{rules, ◌≡◌, sym, ◌∙◌, arith}
use Rattle.std.proofs.lemmas.Fmt.{decimal_injective}
use Rattle.vd_schedule.proofs.entry.entry_from.Goals as goal

pub returns-then-count-eq0 : goal.returns-then-count-eq0
returns-then-count-eq0 c = λ e is thread pick count.
    let none : c.in-Some-number_of.count ≡ e.count = decimal_injective c.in-Some-number_of.count e.count (search rules) (omega (arith, is.count)) (sym c.in-Some-number_of.ensures ∙ count) in
    omega (arith, none, is.some, c.if-count-eq0.true)
