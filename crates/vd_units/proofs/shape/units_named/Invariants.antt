use Rattle.std.proofs.Common.{List}
use Rattle.vd_linkage.specs.Form.{Entry}
use Rattle.vd_units.specs.Index.{IsIndexOf}
use Rattle.vd_units.proofs.Shapes.{SoFar}
use Rattle.vd_units.proofs.shape.units_named.Given as goal

abbrev pub invariant-loop-name : goal.invariant-loop-name
invariant-loop-name l = (entries : List Entry) → IsIndexOf entries l.index → SoFar entries l.names l.name-index l.units
