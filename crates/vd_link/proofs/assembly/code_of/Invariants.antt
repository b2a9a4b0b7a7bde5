use Rattle.std.proofs.Common.{take}
use Rattle.vd_code.specs.Code.{AreAlone, IsOnlyCode}
use Rattle.vd_link.proofs.assembly.code_of.Given as goal

abbrev pub invariant-loop-unit : goal.invariant-loop-unit
invariant-loop-unit l = IsOnlyCode (AreAlone (take l.unit-index l.units)) l.code.fns l.code.globals
