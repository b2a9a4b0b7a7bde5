use Rattle.vd_link.proofs.Assembling.{as_code, as_fitting, as_no_code, no_code, program_of}
use Rattle.vd_link.proofs.assembly.program.Goals as goal

pub returns-in-Some : goal.returns-in-Some
returns-in-Some c =
    let fit = as_fitting c.args.texts.now.texts c.args.link.now c.in_ok-units.field-0 c.in-Units.units c.in-Units.is c.in_ok-units.ensures in
    program_of c.args.texts.now.texts c.args.link.now c.in-Units.units c.requires fit.1 c.in-Some.code.fns c.in-Some.code.globals (as_code c.in-Units.units c.in_ok-code.field-0 c.in-Some.code c.in-Some.is c.in_ok-code.ensures)
    fit.0 c.whole_of.result c.whole_of.ensures

pub returns : goal.returns
returns c =
    let fit = as_fitting c.args.texts.now.texts c.args.link.now c.in_ok-units.field-0 c.in-Units.units c.in-Units.is c.in_ok-units.ensures in
    no_code c.args.texts.now.texts c.args.link.now c.in-Units.units c.requires fit.1 (as_no_code c.in-Units.units c.in_ok-code.field-0 c.in-None.is c.in_ok-code.ensures)
