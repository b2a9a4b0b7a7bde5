use Rattle.std.proofs.Common.{◌≡◌, drop}
use Rattle.std.specs.List.{list_all}
use Rattle.vd_sized.specs.Agreement as agreement
use Rattle.vd_sized.proofs.agreement.items_agree.Given as goal

-- those left agree exactly where all do
abbrev pub invariant-loop-item : goal.invariant-loop-item
invariant-loop-item l = list_all agreement.item_agrees (drop l.item-index l.items) ≡ list_all agreement.item_agrees l.items
