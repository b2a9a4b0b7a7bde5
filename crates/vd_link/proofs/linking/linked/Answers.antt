use Rattle.std.proofs.Common.{◌++◌, ◌∷◌, ◌∙◌, ap, decimal}
use Rattle.vd_link.proofs.Failing.{as_other, as_outside, as_units, fits, not_one, once_of, one_of, prints_name, prints_no_main, prints_outside, prints_unit, twice_of}
use Rattle.vd_link.proofs.linking.linked.Goals as goal

pub returns-in-Outside : goal.returns-in-Outside
returns-in-Outside c =
    prints_outside c.args.texts.now.texts c.args.link.now c.in-Outside.place c.in_ok-at_place-in-Outside.field-0 (as_outside c.args.texts.now.texts c.args.link.now c.in_ok-units.field-0 c.in-Outside.place c.in-Outside.is c.in_ok-units.ensures) c.in_ok-at_place-in-Outside.ensures

pub returns-in-Other : goal.returns-in-Other
returns-in-Other c =
    let f = as_other c.args.texts.now.texts c.args.link.now c.in_ok-units.field-0 c.in-Other.name c.in-Other.is c.in_ok-units.ensures in
    prints_unit c.args.texts.now.texts c.args.link.now f.0 c.in-Other.name c.in_ok-of_name-in-Other.field-0 f.1 f.2 (c.in_ok-of_name-in-Other.ensures ∙ ap (λ n. decimal 2 ++ 32 ∷ n) c.as_bytes.ensures.value)

pub returns-in-Some : goal.returns-in-Some
returns-in-Some c =
    let has = as_units c.args.texts.now.texts c.args.link.now c.in_ok-units.field-0 c.in-Units.units c.in-Units.is c.in_ok-units.ensures in
    prints_name c.args.texts.now.texts c.args.link.now c.in-Units.units c.requires has c.in-Some.name c.in_ok-of_name.field-0
    (twice_of c.args.texts.now.texts c.args.link.now c.in-Units.units c.requires has c.in_ok-name.field-0 c.in-Some.name c.in-Some.is c.in_ok-name.ensures) (c.in_ok-of_name.ensures ∙ ap (λ n. decimal 6 ++ 32 ∷ n) c.as_bytes-in-Some.ensures.value)

pub returns-then-not-branch : goal.returns-then-not-branch
returns-then-not-branch c =
    let has = as_units c.args.texts.now.texts c.args.link.now c.in_ok-units.field-0 c.in-Units.units c.in-Units.is c.in_ok-units.ensures in
    prints_no_main c.args.texts.now.texts c.args.link.now c.in-Units.units c.requires has (once_of c.args.texts.now.texts c.args.link.now c.in-Units.units c.requires has c.in_ok-name.field-0 c.in_default.is c.in_ok-name.ensures)
    c.in_ok-bare.field-0 (not_one c.in-Units.units c.in_ok-has_one_main.field-0 c.in_ok-has_one_main.ensures c.if-not-branch.true) c.in_ok-bare.ensures

pub returns : goal.returns
returns c =
    let has = as_units c.args.texts.now.texts c.args.link.now c.in_ok-units.field-0 c.in-Units.units c.in-Units.is c.in_ok-units.ensures in
    fits c.args.texts.now.texts c.args.link.now c.in-Units.units c.requires has (once_of c.args.texts.now.texts c.args.link.now c.in-Units.units c.requires has c.in_ok-name.field-0 c.in_default.is c.in_ok-name.ensures)
    (one_of c.in-Units.units c.in_ok-has_one_main.field-0 c.in_ok-has_one_main.ensures c.if-not-branch.false)
