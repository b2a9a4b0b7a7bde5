use Rattle.std.proofs.Common.{◌≡◌, false, take}
use Rattle.vd_known.specs.Known as known
use Rattle.vd_known.specs.Names.{IsSet, names_of}
use Rattle.vd_known.specs.Twice as twice
use Rattle.vd_known.proofs.twice.has_twins.Given as goal

abbrev pub invariant-loop-field : goal.invariant-loop-field
invariant-loop-field l = IsSet l.names × (names_of l.names ≡ known.field_names (take l.field-index l.fn.fields)) × (twice.have_twins (take l.field-index l.fn.fields) ≡ false)
