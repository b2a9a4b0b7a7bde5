use Rattle.std.proofs.Common.{inl}
use Rattle.vd_outline.specs.Outline.{HasHead}
use Rattle.vd_commands.proofs.inputs.add_name.Goals as goal

pub returns-in_ok-insert-in-Some : goal.returns-in_ok-insert-in-Some
returns-in_ok-insert-in-Some c =
    let head : HasHead c.args.text.now c.in-Some.field-0-0 c.in-Some.name = rw c.in-Some.is at c.in_ok-name.ensures in
    inl (record { kind = c.in-Some.field-0-0; name = c.in-Some.name; head = head }, c.in_ok-insert-in-Some.ensures.keys)
