use Rattle.std.proofs.Common.{Err, ap}
use Rattle.vd_heads.specs.declared.content.Content.TheVariants as content
use Rattle.vd_scopes.proofs.Reading.{lists_unread}
use Rattle.vd_scopes.proofs.contents.uses.Goals as goal

pub returns-in-Err : goal.returns-in-Err
returns-in-Err c = λ header inside cut.
    lists_unread (λ names. content.Uses names) c.args.text.now c.args.at c.in-Err.fault c.unread.result (λ place e. c.in-Err.ensures.at place (ap Err e) header inside cut) (λ place e. c.in-Err.ensures.never_deep place (ap Err e)) c.unread.ensures.content c.unread.ensures.certain
