use Rattle.std.proofs.Common.{sym, ◌∙◌, ap, option_map}
use Rattle.vd_heads.proofs.TableLaws.{declared_some, declared_none, on_ok_more}
use Rattle.vd_heads.proofs.table.Table.add_section.Goals as goal

pub returns-in-Some-clause-declarations : goal.returns-in-Some-clause-declarations
returns-in-Some-clause-declarations c = λ places h. on_ok_more c.add.result (declared_some c.args.content.now c.in-Some.space c.in-Some.name.now places c.args.spot _ (sym c.declared.ensures ∙ ap (option_map (λ d. (d.0, d.1.now))) c.in-Some.is)) (c.add.ensures.declarations places h)

pub returns-in-None-clause-declarations : goal.returns-in-None-clause-declarations
returns-in-None-clause-declarations c = λ places h. declared_none c.args.content.now places c.args.spot c.args.self.now (sym c.declared.ensures ∙ ap (option_map (λ d. (d.0, d.1.now))) c.in-None.is) h
