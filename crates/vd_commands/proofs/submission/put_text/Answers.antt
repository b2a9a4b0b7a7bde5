use Rattle.vd_outline.specs.Outline.{HasHead}
use Rattle.vd_commands.proofs.submission.put_text.Goals as goal

pub returns-in_ok-put-in-Some-clause-put : goal.returns-in_ok-put-in-Some-clause-put
returns-in_ok-put-in-Some-clause-put c =
    let head : HasHead c.args.text c.in-Some.field-0-0 c.in-Some.name = rw c.in-Some.is at c.in_ok-name.ensures in
    λ put. record { headed = record { kind = c.in-Some.field-0-0; name = c.in-Some.name; head = head }; is = c.in_ok-put-in-Some.ensures.put }
