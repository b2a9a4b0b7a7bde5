-- Scopes with the numbers of their names.
use Rattle.vd_ctyping.specs.declared.index.ScopeIndex.{ScopeIndex}
use Rattle.vd_judge.specs.Environment.{function_names, global_names}
use Rattle.vd_judge.specs.NameTable.{Numbers}

-- the index has the number of each global and of each function of its scope
abbrev pub IsIndex : ScopeIndex → Type 0
IsIndex index = Numbers index.globals (global_names index.scope.now.globals) × Numbers index.functions (function_names index.scope.now.fns)
