use Rattle.std.proofs.Common.{ap, ◌∙◌}
use Rattle.vd_linkage.specs.Texts.{text_named}
use Rattle.vd_units.proofs.Places.{link_answered, no_link_told, no_text_told}
use Rattle.vd_units.proofs.shape.link_names.Goals as goal

pub returns-in_default : goal.returns-in_default
returns-in_default c = λ entries is. no_text_told entries c.args.link.now (c.in_default.ensures entries is ∙ ap (λ k. text_named k entries) c.as_bytes.ensures.value)

pub returns-then-not-branch : goal.returns-then-not-branch
returns-then-not-branch c = λ entries is.
    no_link_told entries c.args.link.now c.in-Some.text.now (c.in-Some.ensures entries is ∙ ap (λ k. text_named k entries) c.as_bytes.ensures.value) (rw c.if-not-branch.true at c.in_ok-is_link.ensures)

pub returns : goal.returns
returns c =
    let head = rw c.if-not-branch.false at c.in_ok-is_link.ensures in
    link_answered c.args.index.now c.args.link.now c.as_bytes.result.now c.in-Some.text.now head.0 c.as_bytes.ensures.value (λ entries is. c.in-Some.ensures entries is) head.1 c.listed_in.result c.listed_in.ensures
