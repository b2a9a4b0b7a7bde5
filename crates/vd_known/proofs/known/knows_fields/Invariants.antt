use Rattle.std.proofs.Common.{◌≡◌, true, take, flat_map}
use Rattle.std.specs.List.{list_all}
use Rattle.vd_known.specs.Known as known
use Rattle.vd_known.proofs.known.knows_fields.Given as goal

abbrev pub invariant-loop-field : goal.invariant-loop-field
invariant-loop-field l = list_all (known.is_met l.fn.view) (flat_map (λ f. known.type_needs f.typ) (take l.field-index l.fn.fields)) ≡ true
