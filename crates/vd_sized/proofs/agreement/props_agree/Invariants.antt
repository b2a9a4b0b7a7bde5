use Rattle.std.proofs.Common.{◌≡◌, drop}
use Rattle.std.specs.List.{list_all}
use Rattle.vd_sized.specs.Agreement as agreement
use Rattle.vd_sized.proofs.agreement.props_agree.Given as goal

-- those left agree exactly where all do
abbrev pub invariant-loop-prop : goal.invariant-loop-prop
invariant-loop-prop l = list_all agreement.prop_agrees (drop l.prop-index l.props) ≡ list_all agreement.prop_agrees l.props
