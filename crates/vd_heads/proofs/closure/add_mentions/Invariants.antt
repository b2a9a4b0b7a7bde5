use Rattle.std.proofs.Common.{take}
use Rattle.vd_heads.specs.PartSet.{Adds, IsMentioned}
use Rattle.vd_heads.proofs.closure.add_mentions.Given as goal

abbrev pub invariant-loop-mention : goal.invariant-loop-mention
invariant-loop-mention l = Adds (IsMentioned l.table (take l.mention-index l.mentions)) l.fn.set l.set
