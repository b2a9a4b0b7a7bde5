use Rattle.vd_schedule.proofs.Lines.{told_line, no_count}
use Rattle.vd_schedule.proofs.entry.entry_of.Goals as goal

pub returns-in-Some-cut_at : goal.returns-in-Some-cut_at
returns-in-Some-cut_at c = told_line c.args.line.now c.in-Some.thread.now c.in-Some.behind.now c.in-Some-cut_at.pick.now c.in-Some-cut_at.count.now c.entry_from.result
    c.in-Some.ensures.0 c.in-Some.ensures.1 c.in-Some-cut_at.ensures.0 c.in-Some-cut_at.ensures.1 c.entry_from.ensures

pub returns-in-None-cut_at : goal.returns-in-None-cut_at
returns-in-None-cut_at c = λ e is whole. no_count c.args.line.now c.in-Some.thread.now c.in-Some.behind.now e c.in-Some.ensures.0 c.in-Some.ensures.1 c.in-None-cut_at.ensures is whole
