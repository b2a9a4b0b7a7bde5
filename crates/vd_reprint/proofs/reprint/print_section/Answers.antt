use Rattle.std.proofs.Common.{rules, ◌≡◌, sym, subst}
use Rattle.vd_reprint.specs.SectionText.{section_text, ReadsBack}
use Rattle.vd_reprint.proofs.Sections.{sections_read_back}
use Rattle.vd_reprint.proofs.reprint.print_section.Goals as goal

pub returns-clause-back : goal.returns-clause-back
returns-clause-back c =
    let f = c.args.f.now in
    let text : c.append-4.new.self ≡ section_text f = search rules in
    λ from r. subst (λ t. ReadsBack t f) (sym text) (sections_read_back from f r)
