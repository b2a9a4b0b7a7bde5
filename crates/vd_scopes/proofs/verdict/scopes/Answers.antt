use Rattle.std.proofs.Common.{List, Option, option_copied, subst}
use Rattle.vd_heads.specs.declared.content.Part.{Part}
use Rattle.vd_outline.specs.Outline.{Bytes}
use Rattle.vd_scopes.specs.Answers.{Answers, IsSplit}
use Rattle.vd_scopes.proofs.Single.{answers_texts, say_something}
use Rattle.vd_scopes.proofs.verdict.scopes.Goals as goal

pub returns : goal.returns
returns c =
    let texts = c.args.parts.now in
    let front = c.in_ok-texts.texts.now in
    let lines : Option Bytes = option_copied c.in_ok-texts.lines in
    let ps = c.in_ok-parts.parts in
    let answer = c.judged.result in
    let split : IsSplit texts front lines = subst (λ (ts : List Bytes). IsSplit ts front lines) c.as_slice.ensures c.in_ok-texts.ensures in
    let judged : Answers ps lines answer = subst (λ (qs : List Part). Answers qs lines answer) c.as_slice-2.ensures c.judged.ensures in
    record { answers = answers_texts texts front lines ps answer split c.in_ok-parts.ensures judged; something = say_something texts front lines ps answer split c.in_ok-parts.ensures }
