use Rattle.std.proofs.Common.{ℕ, List, ◌++◌, ap, ◌∙◌}
use Rattle.vd_logic.specs.declared.term.Sort.{Sort}
use Rattle.vd_logic_grammar.specs.Variables.{variable_from}
use Rattle.vd_assertion_text.specs.Lookup.{variable_in}
use Rattle.vd_assertion_text.proofs.Declaring.{numbered_same}
use Rattle.vd_assertion_text.proofs.numbering.numbered.Goals as goal

pub returns-clause-assertion : goal.returns-clause-assertion
returns-clause-assertion c =
    c.in_ok-assertion.ensures ∙ numbered_same (variable_in c.in_ok-variables.variables) c.args.before.now c.args.a.now
    (λ name. c.in_ok-variables.ensures.numbers name ∙ ap (λ (ds : List (List ℕ × Sort)). variable_from 0 (c.args.before.now ++ ds) name) c.as_slice.ensures)
