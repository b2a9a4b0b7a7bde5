use Rattle.std.proofs.Common.{ℕ, List, ap, ◌∙◌}
use Rattle.vd_logic.specs.declared.term.Sort.{Sort}
use Rattle.vd_logic_grammar.specs.Variables.{numbered_assertion, with_result}
use Rattle.vd_assertion_text.proofs.Declaring.{spec_same}
use Rattle.vd_assertion_text.proofs.sections.specification.Goals as goal

pub returns-clause-spec : goal.returns-clause-spec
returns-clause-spec c = spec_same c.args.signature c.args.names c.in_ok-all.all c.args.pre.now c.args.post.now c.in_ok-pre.pre c.in_ok-post.post
    (c.in_ok-pre.ensures.assertion ∙ ap (λ (x : List (List ℕ × Sort)). numbered_assertion x c.args.pre.now) c.as_slice.ensures)
    (c.in_ok-all.ensures ∙ ap with_result c.as_slice-2.ensures)
    (c.in_ok-post.ensures.assertion ∙ ap (λ (x : List (List ℕ × Sort)). numbered_assertion x c.args.post.now) c.as_slice-3.ensures)
