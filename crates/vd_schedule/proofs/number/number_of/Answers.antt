use Rattle.std.proofs.Common.{rules, ◌≡◌, ℕ, ◌^◌, ◌<◌, decimal, MatchOption, subst, sym}
use Rattle.std.specs.Str.Parse.{ParsesUnsigned}
use Rattle.vd_schedule.proofs.Numbers.{BeginsNumber, begins_number, parsed, number_is_text}
use Rattle.vd_schedule.proofs.number.number_of.Goals as goal

pub returns-then-bytes-eq43 : goal.returns-then-bytes-eq43
returns-then-bytes-eq43 c = λ n small e. begins_number c.args.bytes.now n small e c.if-bytes-gt1.true (search rules)

pub returns-in-Ok : goal.returns-in-Ok
returns-in-Ok c =
    let begins : BeginsNumber c.args.bytes.now = search rules in
    let bytes = c.args.bytes.now in
    let own : ParsesUnsigned 32 10 bytes c.parse.result = subst (λ b. ParsesUnsigned 32 10 b c.parse.result) c.in-Ok.ensures.cases.0 c.parse.ensures.value.0 in
    subst (λ o. MatchOption o ((n : ℕ) → n < 2 ^ 32 → bytes ≡ decimal n → ⊥) (λ n. bytes ≡ decimal n)) (sym c.ok.ensures.value) (parsed bytes c.parse.result begins own)

pub returns-in-Err : goal.returns-in-Err
returns-in-Err c = λ n small e. c.in-Err.ensures.cases.0 (number_is_text c.args.bytes.now n small e)
