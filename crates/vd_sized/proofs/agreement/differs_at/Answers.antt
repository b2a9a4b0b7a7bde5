use Rattle.std.proofs.Common.{◌≡◌, true, false, sym, ◌∙◌}
use Rattle.vd_sized.proofs.Defining.{not_exported, nothing_there, differs_by}
use Rattle.vd_sized.proofs.agreement.differs_at.Goals as goal

no : false ≡ true → ⊥
no e = cc

pub returns-then-not-exports : goal.returns-then-not-exports
returns-then-not-exports c =
    not_exported c.args.view.now.parts.now c.args.view.now.own c.args.content.now c.args.spot.part c.args.spot.section (λ x. no (sym c.if-not-exports.true ∙ (c.exports.ensures ∙ (c.requires.exported c.args.spot.part).1 x)))

pub returns-in-Some : goal.returns-in-Some
returns-in-Some c =
    differs_by c.args.view.now.parts.now c.args.view.now.own c.args.content.now c.args.spot.part c.args.spot.section c.in-Some.there.now c.matches.result
    ((c.requires.exported c.args.spot.part).0 (sym c.exports.ensures ∙ c.if-not-exports.false)) c.in-Some.ensures c.matches.ensures

pub returns-in-None : goal.returns-in-None
returns-in-None c = nothing_there c.args.view.now.parts.now c.args.view.now.own c.args.content.now c.args.spot.part c.args.spot.section c.in-None.ensures
