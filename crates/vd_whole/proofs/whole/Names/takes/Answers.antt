use Rattle.vd_singles.proofs.Singles.{one_has, none_has}
use Rattle.vd_clight.specs.declared.typed.TypedFn.{TypedFn}
use Rattle.vd_whole.proofs.whole.Names.takes.Goals as goal

pub returns-in-Some : goal.returns-in-Some
returns-in-Some c = one_has (λ (f : TypedFn). f.name) (λ f. f.params) c.args.name.now c.args.self.now.program.now.fns c.in-Some.params c.args.arguments (c.in-Some.ensures _ c.requires.functions)

pub returns-in-None : goal.returns-in-None
returns-in-None c = none_has (λ (f : TypedFn). f.name) (λ f. f.params) c.args.name.now c.args.self.now.program.now.fns c.args.arguments (c.in-None.ensures _ c.requires.functions)
