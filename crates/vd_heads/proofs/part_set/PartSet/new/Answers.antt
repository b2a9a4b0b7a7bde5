use Rattle.vd_heads.proofs.Sets.{is_set_none}
use Rattle.vd_heads.proofs.part_set.PartSet.new.Goals as goal

pub returns-clause-is_set : goal.returns-clause-is_set
returns-clause-is_set c = is_set_none _ c.in_ok-marks.ensures.none c.new-members.ensures.items
