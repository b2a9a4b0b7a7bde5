use Rattle.std.proofs.Common.{ap, sym, ◌∙◌}
use Rattle.vd_clight.specs.Whole.{has_cells, is_whole_root}
use Rattle.vd_whole.proofs.whole.is_whole_root.Goals as goal

pub returns-in-Global : goal.returns-in-Global
returns-in-Global c =
    let p = c.args.names.now.program.now in c.has_cells.ensures ∙ (ap (λ name. has_cells p name c.in-Global.cells) c.as_bytes.ensures.value ∙ sym (ap (is_whole_root p c.args.temps) c.in-Global.is))
