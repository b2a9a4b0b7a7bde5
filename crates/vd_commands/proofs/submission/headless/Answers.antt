use Rattle.std.proofs.Common.{◌∙◌, ap, not, subst}
use Rattle.std.specs.List.{All}
use Rattle.std.proofs.lemmas.List.{take_all}
use Rattle.std.proofs.lemmas.List.Elements.{All-more}
use Rattle.vd_commands.specs.Submission.{IsHeaded}
use Rattle.vd_commands.proofs.Submitting.{headed_found}
use Rattle.vd_commands.proofs.submission.headless.Goals as goal

pub loop-at-preserved : goal.loop-at-preserved
loop-at-preserved c =
    let headed : IsHeaded c.index-texts-at.result = headed_found c.index-texts-at.result c.in_ok-head_of.field-0 c.in_ok-head_of.ensures (c.is_none.ensures ∙ ap not c.if-is_none.false) in
    All-more IsHeaded c.args.texts.now c.loop-at.at c.index-texts-at.result c.loop-at-test.true c.loop-at.invariant (subst IsHeaded c.index-texts-at.is headed)

pub returns : goal.returns
returns c = subst (λ ts. All IsHeaded ts) (take_all c.loop-at.at c.args.texts.now c.loop-at-test.false) c.loop-at.invariant
