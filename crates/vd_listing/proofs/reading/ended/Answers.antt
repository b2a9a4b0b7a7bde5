use Rattle.vd_listing.proofs.Naming.{same_place, at_unknown, at_end, all_named}
use Rattle.vd_listing.proofs.reading.ended.Goals as goal

pub returns-in-Unknown-clause-at : goal.returns-in-Unknown-clause-at
returns-in-Unknown-clause-at c = λ place is. at_unknown c.args.found.0 c.args.found.1 c.args.end c.in-Unknown.at place c.in-Unknown.is (same_place _ _ is)

pub returns-then-wants_name-clause-at : goal.returns-then-wants_name-clause-at
returns-then-wants_name-clause-at c = λ place is. at_end c.args.found.0 c.args.found.1 c.args.end c.in-Text.at place c.in-Text.is c.if-wants_name.true (same_place _ _ is)

pub returns-else-wants_name-clause-names : goal.returns-else-wants_name-clause-names
returns-else-wants_name-clause-names c = all_named c.args.found.0 c.args.found.1 c.args.end c.in-Text.at c.in-Text.is c.if-wants_name.false
