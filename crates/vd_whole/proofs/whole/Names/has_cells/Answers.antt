use Rattle.vd_singles.proofs.Singles.{one_has, none_has}
use Rattle.vd_clight.specs.declared.program.GlobalDef.{GlobalDef}
use Rattle.vd_whole.proofs.whole.Names.has_cells.Goals as goal

pub returns-in-Some : goal.returns-in-Some
returns-in-Some c = one_has (λ (g : GlobalDef). g.name) (λ g. g.cells) c.args.name.now c.args.self.now.program.now.globals c.in-Some.known c.args.cells (c.in-Some.ensures _ c.requires.globals)

pub returns-in-None : goal.returns-in-None
returns-in-None c = none_has (λ (g : GlobalDef). g.name) (λ g. g.cells) c.args.name.now c.args.self.now.program.now.globals c.args.cells (c.in-None.ensures _ c.requires.globals)
