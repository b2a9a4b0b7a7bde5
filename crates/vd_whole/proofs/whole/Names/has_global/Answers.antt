use Rattle.std.proofs.Common.{ap, ◌∙◌}
use Rattle.std.specs.Option.{is_some}
use Rattle.vd_singles.proofs.Singles.{there_is}
use Rattle.vd_clight.specs.declared.program.GlobalDef.{GlobalDef}
use Rattle.vd_whole.proofs.whole.Names.has_global.Goals as goal

pub returns : goal.returns
returns c = c.is_some.ensures ∙ (ap is_some (c.single.ensures _ c.requires.globals) ∙ there_is (λ (g : GlobalDef). g.name) (λ g. g.cells) c.args.name.now c.args.self.now.program.now.globals)
