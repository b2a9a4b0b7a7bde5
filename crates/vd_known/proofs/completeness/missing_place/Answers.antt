use Rattle.std.proofs.Common.{◌∙◌, sym, rules}
use Rattle.std.proofs.lemmas.Bool.{iff_false}
use Rattle.vd_known.proofs.LackLaws.{missing_here, none_missing, no_interface}
use Rattle.vd_known.proofs.completeness.missing_place.Goals as goal

pub returns-then-asks : goal.returns-then-asks
returns-then-asks c = λ lines bodies. missing_here lines c.args.view.now.parts.now c.args.view.now.own c.args.mention.now c.in-Some.number (sym (c.requires.view.table.interfaces c.args.mention.now.name) ∙ (sym c.interface.ensures ∙ (search rules))) ((c.asks.ensures lines bodies).0 (search rules))

pub returns-else-asks : goal.returns-else-asks
returns-else-asks c = λ lines bodies. none_missing lines c.args.view.now.parts.now c.args.view.now.own c.args.mention.now c.in-Some.number (sym (c.requires.view.table.interfaces c.args.mention.now.name) ∙ (sym c.interface.ensures ∙ (search rules)))
    (iff_false (c.asks.ensures lines bodies) (search rules))

pub returns-in-None : goal.returns-in-None
returns-in-None c = λ lines bodies. no_interface lines c.args.view.now.parts.now c.args.view.now.own c.args.mention.now (sym (c.requires.view.table.interfaces c.args.mention.now.name) ∙ (sym c.interface.ensures ∙ (search rules)))
