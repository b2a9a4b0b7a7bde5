use Rattle.std.proofs.Common.{[], ◌∷◌, refl}
use Rattle.vd_sized.specs.Cells as cells
use Rattle.vd_sized.proofs.size.Sizes.single.Goals as goal

pub returns : goal.returns
returns c = record { cells = c.args.t.now ∷ []; have = cells.one c.requires refl; counts = c.in_ok-one.ensures }
