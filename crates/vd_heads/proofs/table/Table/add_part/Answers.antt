use Rattle.vd_heads.specs.Views.{spots_of}
use Rattle.vd_heads.proofs.TableLaws.{table_more, declarations_kept, on_ok_more}
use Rattle.vd_heads.proofs.table.Table.add_part.Goals as goal

pub returns : goal.returns
returns c = λ before e h.
    on_ok_more c.add_sections.result (table_more before c.args.part.now c.as_slice.result.now c.args.self.now c.add_interface.new.self c.add_sections.new.self c.args.number e c.as_slice.ensures h
    c.in_ok-add_interface.ensures.interfaces c.add_sections.ensures.interfaces)
    (c.add_sections.ensures.declarations (spots_of before) (declarations_kept before c.args.self.now c.add_interface.new.self h c.in_ok-add_interface.ensures.declarations))
