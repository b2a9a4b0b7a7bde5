use Rattle.std.proofs.Common.{◌≡◌, ◌++◌, take}
use Rattle.vd_judge.specs.Environment.{names_of}
use Rattle.vd_ctyping.proofs.function.add_names.Given as goal

abbrev pub invariant-loop-field : goal.invariant-loop-field
invariant-loop-field l = l.names ≡ l.initial.names ++ names_of (take l.field-index l.fields)
