use Rattle.std.proofs.Common.{refl, sym, ◌∙◌, ap}
use Rattle.vd_grammar.specs.SectionLaws.{section_answer, left_answer, stop_answer}
use Rattle.vd_cgrammar.specs.Grammar.{GlobalSection, grammar}
use Rattle.vd_cgrammar.specs.Nesting.{nesting}
use Rattle.vd_cgrammar.specs.Read.{read}
use Rattle.vd_cgrammar.specs.Tokens.{place}
use Rattle.vd_cgrammar.specs.Laws.{laws}
use Rattle.vd_cparse.proofs.decl.read_global.Goals as goal

pub returns-then-is_whole : goal.returns-then-is_whole
returns-then-is_whole c = λ ts is_text end cut. section_answer grammar nesting place laws GlobalSection refl ts _ is_text end c.args.at c.args.cause c.in-Ok.found c.global_section.new.tokens cut
    (ap (read GlobalSection) (sym c.new-tokens.ensures) ∙ c.in-Ok.ensures.reads) (sym c.if-is_whole.ensures)

pub returns-else-is_whole : goal.returns-else-is_whole
returns-else-is_whole c = λ ts is_text end cut. rw c.fault.ensures (left_answer grammar nesting place laws GlobalSection refl ts _ is_text end c.args.at c.args.cause c.in-Ok.found c.global_section.new.tokens cut
    (ap (read GlobalSection) (sym c.new-tokens.ensures) ∙ c.in-Ok.ensures.reads) (sym c.if-is_whole.ensures))

pub returns-in-Err-Refused : goal.returns-in-Err-Refused
returns-in-Err-Refused c = λ ts is_text end cut. rw c.fault-in-Err-Refused.ensures (stop_answer grammar nesting place laws GlobalSection refl ts _ is_text end c.args.at c.args.cause c.global_section.new.tokens cut
    (ap (read GlobalSection) (sym c.new-tokens.ensures) ∙ (rw c.in-Err-Refused.field-0-is at c.in-Err-Refused.ensures.reads)))
