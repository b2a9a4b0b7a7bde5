use Rattle.vd_listing.specs.OneListing.{one_cut}
use Rattle.vd_listing.proofs.reading.cut.Goals as goal

pub returns-in-None-before_end : goal.returns-in-None-before_end
returns-in-None-before_end c = λ header content is. c.in-None-before_end.ensures content (one_cut c.args.bytes.now c.in-Some.header.now c.in-Some.body.now header content c.in-Some.ensures.0 c.in-Some.ensures.1 is)
