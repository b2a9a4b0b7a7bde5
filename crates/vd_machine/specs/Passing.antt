-- Frames whose lists are left one after another.
use Rattle.std.specs.Prelude.{◌≡◌}
use Rattle.vd_machine.specs.declared.frame.Frame.{Frame}
use Rattle.vd_machine.specs.Kept.{frame_code}
use Rattle.vd_machine.specs.Room.{IsRoomy}

-- one frame has the code and temporaries of another
pub record SameFrame (f g : Frame) : Type 0 where
  pub code : frame_code f ≡ frame_code g
  pub temps : f.temps ≡ g.temps
  pub roomy : IsRoomy g → IsRoomy f

-- it has its loops and temporaries
pub record SameLoops (f g : Frame) : Type 0 where
  pub loops : (frame_code f).loops ≡ (frame_code g).loops
  pub temps : f.temps ≡ g.temps
  pub roomy : IsRoomy g → IsRoomy f
