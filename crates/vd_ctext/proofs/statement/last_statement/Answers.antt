use Rattle.std.proofs.Common.{sym}
use Rattle.vd_ctext.proofs.Steps.{jump_inside, other_inside, other_outside}
use Rattle.vd_ctext.proofs.statement.last_statement.Goals as goal

pub returns-then-sees-clause-reads : goal.returns-then-sees-clause-reads
returns-then-sees-clause-reads c = jump_inside c.args.inside c.args.tokens.now c.if-inside.true (sym c.if-sees.ensures) _ _ c.jump.ensures.reads

pub returns-else-sees-clause-reads : goal.returns-else-sees-clause-reads
returns-else-sees-clause-reads c = other_inside c.args.inside c.args.tokens.now c.if-inside.true (sym c.if-sees.ensures) _ _ c.other_statement.ensures.reads

pub returns-else-inside-clause-reads : goal.returns-else-inside-clause-reads
returns-else-inside-clause-reads c = other_outside c.args.inside c.args.tokens.now c.if-inside.false _ _ c.other_statement-else-inside.ensures.reads
