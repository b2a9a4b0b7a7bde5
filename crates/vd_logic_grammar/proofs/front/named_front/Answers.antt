use Rattle.std.proofs.Common.{rules}
use Rattle.vd_section.specs.HeaderLine.{named_header}
use Rattle.vd_logic_grammar.specs.Fronts.{HasFront}
use Rattle.vd_logic_grammar.specs.Words as words
use Rattle.vd_logic_grammar.proofs.Owning.{front_named}
use Rattle.vd_logic_grammar.proofs.front.named_front.Goals as goal

pub returns-clause-named : goal.returns-clause-named
returns-clause-named c =
    let h : HasFront c.args.language (named_header (words.is_header_name c.args.language) c.args.kind.now c.args.text.now) c.behind.result = search rules in
    front_named c.args.language c.args.kind.now c.args.text.now c.behind.result h
