use Rattle.std.proofs.Common.{[]}
use Rattle.vd_assertion_text.proofs.Declaring.{stands_nothing}
use Rattle.vd_assertion_text.proofs.variables.Variables.of.Goals as goal

pub returns-clause-numbers : goal.returns-clause-numbers
returns-clause-numbers c =
    let none = stands_nothing c.new-variables.result c.new-variables.ensures.none c.new-variables.ensures.count c.new-variables.ensures.hides in
    let first = c.in_ok-add_all.ensures [] none in
    let both = c.in_ok-add_all-2.ensures c.args.before.now first in
    λ name. both.numbers name

pub returns-clause-hides : goal.returns-clause-hides
returns-clause-hides c =
    let none = stands_nothing c.new-variables.result c.new-variables.ensures.none c.new-variables.ensures.count c.new-variables.ensures.hides in
    let first = c.in_ok-add_all.ensures [] none in
    let both = c.in_ok-add_all-2.ensures c.args.before.now first in
    both.hides
