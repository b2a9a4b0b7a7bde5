use Rattle.std.proofs.Common.{◌≡◌, take}
use Rattle.vd_known.specs.Known as known
use Rattle.vd_known.specs.Names.{IsSet, names_of}
use Rattle.vd_known.proofs.known.field_names.Given as goal

abbrev pub invariant-loop-field : goal.invariant-loop-field
invariant-loop-field l = IsSet l.names × (names_of l.names ≡ known.field_names (take l.field-index l.fn.fields))
