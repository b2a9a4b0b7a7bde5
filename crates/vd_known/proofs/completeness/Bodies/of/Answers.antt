use Rattle.std.proofs.Common.{sym, rules}
use Rattle.vd_known.proofs.LineLaws.{nothing_read, one_read, bodies_read}
use Rattle.vd_known.proofs.completeness.Bodies.of.Goals as goal

pub lines-init : goal.lines-init
lines-init c = nothing_read c.args.lines.now c.as_bytes-rest.result.now c.new-functions.result c.new-scripts.result c.new-subs.result (sym c.as_bytes-rest.ensures)
    c.new-functions.ensures.set c.new-scripts.ensures.set c.new-subs.ensures.set c.new-functions.ensures.names c.new-scripts.ensures.names c.new-subs.ensures.names

pub lines-preserved : goal.lines-preserved
lines-preserved c = one_read c.args.lines.now c.lines.rest.now c.in-Some.line.now c.in-Some.after.now c.lines.functions c.lines.scripts c.lines.subs c.add_named.new.names c.add_named-in-Some.new.names c.add_named-in-Some-2.new.names
    c.lines.invariant (search rules) (search rules) c.in_ok-add_named.ensures.set c.in_ok-add_named-2.ensures.set c.in_ok-add_named-3.ensures.set
    c.in_ok-add_named.ensures.names c.in_ok-add_named-2.ensures.names c.in_ok-add_named-3.ensures.names

pub returns : goal.returns
returns c = bodies_read c.args.lines.now c.lines.rest.now _ c.lines.invariant c.in_default.ensures
