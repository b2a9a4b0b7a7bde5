use Rattle.vd_heads.specs.HeadPart.{head_part}
use Rattle.vd_code.proofs.Scoping.{is_scope, no_scope}
use Rattle.vd_code.proofs.code.scope_of.Goals as goal

pub returns-in-Ok : goal.returns-in-Ok
returns-in-Ok c = is_scope (head_part c.args.outline.now) c.push.new.self (cc (c.in_ok-push.ensures.ok, c.in_ok-head_part.ensures, c.new-parts.ensures)) c.in-Ok.scopes c.in-Ok.ensures.answers c.in-Ok.ensures.something

pub returns-in-Err-Refused : goal.returns-in-Err-Refused
returns-in-Err-Refused c = no_scope (head_part c.args.outline.now) c.push.new.self (cc (c.in_ok-push.ensures.ok, c.in_ok-head_part.ensures, c.new-parts.ensures)) c.in-Err-Refused.field-0 c.in-Err-Refused.field-0-0 c.in-Err-Refused.field-0-1 c.in-Err-Refused.field-0-is c.in-Err-Refused.ensures.answers
