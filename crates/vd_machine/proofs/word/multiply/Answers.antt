use Rattle.std.proofs.Common.{◌*ℤ◌, FitsSigned, arith, rules, w64}
use Rattle.std.proofs.lemmas.Int.{ints, fits_signed_mul}
use Rattle.vd_machine.proofs.word.multiply.Goals as goal

pub overflow_mul-a : goal.overflow_mul-a
overflow_mul-a c =
    let fits : FitsSigned w64 (c.signed-a.result *ℤ c.signed-b.result) =
    fits_signed_mul w64 c.signed-a.result c.signed-b.result 2147483648 2147483648 (omega (arith, ints)) (omega (arith, ints)) (omega arith) in
    search (rules, fits)

pub returns-in-Signed : goal.returns-in-Signed
returns-in-Signed c =
    let fits : FitsSigned w64 (c.signed-a.result *ℤ c.signed-b.result) =
    fits_signed_mul w64 c.signed-a.result c.signed-b.result 2147483648 2147483648 (omega (arith, ints)) (omega (arith, ints)) (omega arith) in
    search (rules, fits)

pub returns-in-Unsigned : goal.returns-in-Unsigned
returns-in-Unsigned c = search rules
