use Rattle.vd_units.proofs.shape.units_of.Goals as goal

pub returns-in-Ok-2 : goal.returns-in-Ok-2
returns-in-Ok-2 c =
    let found = rw c.in-Ok-2.is at (c.in_ok-units-in-Ok.ensures c.args.texts.now.texts c.in_ok-index.ensures) in
    record { names = c.in-Ok.names; lists = rw c.in-Ok.is at (c.in_ok-names.ensures c.args.texts.now.texts c.in_ok-index.ensures); has_units = found.0; none_other = found.1 }

pub returns-in-Ok : goal.returns-in-Ok
returns-in-Ok c = (
  c.in-Ok.names,
  rw c.in-Ok.is at (c.in_ok-names.ensures c.args.texts.now.texts c.in_ok-index.ensures),
  rw c.in-Err-2.is at (c.in_ok-units-in-Ok.ensures c.args.texts.now.texts c.in_ok-index.ensures),
)

pub returns : goal.returns
returns c = rw c.in-Err.is at (c.in_ok-names.ensures c.args.texts.now.texts c.in_ok-index.ensures)
