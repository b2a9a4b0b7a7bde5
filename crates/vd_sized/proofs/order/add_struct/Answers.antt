use Rattle.vd_sized.proofs.Seeing.{on_ok, none_meant, one_added}
use Rattle.vd_sized.proofs.order.add_struct.Goals as goal

pub returns-in_default-struct_meant : goal.returns-in_default-struct_meant
returns-in_default-struct_meant c = none_meant c.args.view.now c.args.section.now c.args.seen.now c.requires.seen c.in-Some.declared c.in-Some.ensures c.in_default-struct_meant.ensures

pub returns : goal.returns
returns c = on_ok c.push.result (λ e. one_added c.args.view.now c.args.section.now c.args.seen.now c.requires.seen c.in-Some.declared c.in-Some-struct_meant.known c.push.new.self c.in-Some.ensures c.in-Some-struct_meant.ensures e) c.push.ensures.ok
