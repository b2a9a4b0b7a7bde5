use Rattle.vd_scopes.proofs.Refusing.{found_own, found_lack, nothing_fails}
use Rattle.vd_scopes.proofs.verdict.header_failing.Goals as goal

pub returns-in-Some : goal.returns-in-Some
returns-in-Some c = found_own c.args.view.now.parts.now c.args.lines.now c.args.view.now.own c.requires.own c.in_ok-failing.field-0 c.in-Some.failing c.in_ok-failing.ensures c.in-Some.is

pub returns-in-Some-first_lack : goal.returns-in-Some-first_lack
returns-in-Some-first_lack c =
    let v = c.args.view.now in
    found_lack v.parts.now c.args.lines.now v.own c.requires.own c.in_ok-failing.field-0 c.first_lack.result c.in-Some-first_lack.place c.in_ok-failing.ensures c.in_default.is
    (c.first_lack.ensures c.args.lines.now c.in_ok-bodies.ensures) c.in-Some-first_lack.is

pub returns : goal.returns
returns c =
    let v = c.args.view.now in
    nothing_fails v.parts.now c.args.lines.now v.own c.requires.own c.in_ok-failing.field-0 c.first_lack.result c.in_ok-failing.ensures c.in_default.is (c.first_lack.ensures c.args.lines.now c.in_ok-bodies.ensures) c.in-None.is
