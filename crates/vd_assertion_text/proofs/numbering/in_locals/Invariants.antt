use Rattle.std.proofs.Common.{◌≡◌, take, map}
use Rattle.vd_logic.specs.Parts.{map_local}
use Rattle.vd_logic_grammar.specs.Variables.{numbered}
use Rattle.vd_assertion_text.specs.Lookup.{variable_in}
use Rattle.vd_assertion_text.proofs.numbering.in_locals.Given as goal

abbrev pub invariant-loop-local : goal.invariant-loop-local
invariant-loop-local l = l.found ≡ map (map_local (numbered (variable_in l.variables))) (take l.local-index l.locals)
