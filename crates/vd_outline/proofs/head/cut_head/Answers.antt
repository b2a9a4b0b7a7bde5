use Rattle.std.proofs.Common.{◌≡◌, ◌∙◌, sym, false, None}
use Rattle.vd_base.specs.Name.{is_name}
use Rattle.vd_outline.specs.Words.{text_kind_from}
use Rattle.vd_outline.proofs.WordLaws.{IsFirstLine, no_space, no_kind, no_name}
use Rattle.vd_outline.proofs.head.cut_head.Goals as goal

pub returns-in_default-cut_at : goal.returns-in_default-cut_at
returns-in_default-cut_at c = λ kind name. no_space c.args.bytes.now c.in-Some.line.now c.in-Some.rest.now kind name c.in-Some.ensures.0 c.in-Some.ensures.1 c.in_default-cut_at.ensures

pub returns-in_default-text_kind_of : goal.returns-in_default-text_kind_of
returns-in_default-text_kind_of c =
    let first : IsFirstLine c.args.bytes.now c.in-Some-cut_at.word.now c.in-Some-cut_at.name.now c.in-Some.rest.now =
    record { line = c.in-Some.line.now; cut = c.in-Some.ensures.0; one = c.in-Some.ensures.1; parts = c.in-Some-cut_at.ensures.0; first = c.in-Some-cut_at.ensures.1 } in
    let none : text_kind_from c.in-Some-cut_at.word.now ≡ None = sym c.text_kind_of.ensures ∙ c.in_default-text_kind_of.is in
    λ kind name. no_kind c.args.bytes.now _ _ _ kind name first none

pub returns-in-None : goal.returns-in-None
returns-in-None c =
    let first : IsFirstLine c.args.bytes.now c.in-Some-cut_at.word.now c.in-Some-cut_at.name.now c.in-Some.rest.now =
    record { line = c.in-Some.line.now; cut = c.in-Some.ensures.0; one = c.in-Some.ensures.1; parts = c.in-Some-cut_at.ensures.0; first = c.in-Some-cut_at.ensures.1 } in
    let none : is_name c.in-Some-cut_at.name.now ≡ false = rw c.in-None.is at c.in_ok-name.ensures in
    λ kind name. no_name c.args.bytes.now _ _ _ kind name first none
