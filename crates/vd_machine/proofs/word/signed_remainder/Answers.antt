use Rattle.std.proofs.Common.{arith, w64}
use Rattle.std.proofs.lemmas.Int.{ints, rem_is}
use Rattle.vd_machine.proofs.word.signed_remainder.Goals as goal

pub returns : goal.returns
returns c =
    let value = rem_is w64 c.signed.result c.signed-2.result (omega (arith, ints)) (omega (arith, ints)) in
    cc (value, c.signed.ensures.value, c.signed-2.ensures.value)
