use Rattle.std.proofs.Common.{map, take}
use Rattle.vd_singles.specs.Table.{IsTable}
use Rattle.vd_whole.proofs.whole.names_of.Given as goal

abbrev pub invariant-loop-f : goal.invariant-loop-f
invariant-loop-f l = IsTable l.functions (map (λ f. (f.name, f.params)) (take l.f-index l.program.fns))

abbrev pub invariant-loop-g : goal.invariant-loop-g
invariant-loop-g l = IsTable l.functions (map (λ f. (f.name, f.params)) l.program.fns) × IsTable l.globals (map (λ g. (g.name, g.cells)) (take l.g-index l.program.globals))
