use Rattle.std.proofs.Common.{◌≡◌, ◌∙◌, sym, ap, false, None, Some, option_copied}
use Rattle.vd_base.specs.Name.{is_name}
use Rattle.vd_outline.specs.Reading.{IsSplit}
use Rattle.vd_outline.specs.Words.{section_kind_from}
use Rattle.vd_outline.proofs.HeaderLaws.{IsHeaded, no_section_word, not_standing, not_named, not_name, unlike_tests}
use Rattle.vd_outline.proofs.header.header_of.Goals as goal
use Rattle.vd_outline.proofs.header.header_of.Goals.{then-not-stands_in-via-then-not-stands_in, then-not-stands_in-via-else-not-stands_in+then-takes_name-is_some}

pub returns-in_default : goal.returns-in_default
returns-in_default c = λ kind name.
    let none : section_kind_from c.split_word.result.0.now ≡ None = sym c.section_kind_of.ensures ∙ c.in_default.is in
    no_section_word c.args.line.now _ _ c.args.text kind name c.split_word.ensures none

pub returns-then-not-stands_in : goal.returns-then-not-stands_in
returns-then-not-stands_in c = λ kind name.
    let headed : IsHeaded c.args.line.now c.split_word.result.0.now c.in-Some.kind (option_copied c.split_word.result.1) =
    record { split = c.split_word.ensures; known = sym c.section_kind_of.ensures ∙ c.in-Some.is } in
    elim c.then-not-stands_in.branch [
      | then-not-stands_in-via-then-not-stands_in w ↦
          not_standing c.args.line.now _ c.in-Some.kind _ c.args.text kind name headed (sym c.stands_in.ensures ∙ w.if-not-stands_in.true)
      | then-not-stands_in-via-else-not-stands_in+then-takes_name-is_some w ↦
          not_named c.args.line.now _ c.in-Some.kind _ c.args.text kind name headed
          (λ same. unlike_tests w.takes_name.result w.is_some.result c.split_word.result.1 w.if-takes_name-is_some.true w.is_some.ensures (w.takes_name.ensures ∙ same))
    ]

pub returns-in-None-2 : goal.returns-in-None-2
returns-in-None-2 c = λ kind name.
    let name_is : option_copied c.split_word.result.1 ≡ Some c.in-Some-name.bytes.now = ap option_copied c.in-Some-name.is in
    let split : IsSplit c.args.line.now c.split_word.result.0.now (Some c.in-Some-name.bytes.now) = rw name_is at c.split_word.ensures in
    let headed : IsHeaded c.args.line.now c.split_word.result.0.now c.in-Some.kind (Some c.in-Some-name.bytes.now) =
    record { split = split; known = sym c.section_kind_of.ensures ∙ c.in-Some.is } in
    let none : is_name c.in-Some-name.bytes.now ≡ false = rw c.in-None-2.is at c.in_ok-name-in-Some-name.ensures in
    not_name c.args.line.now _ _ c.in-Some.kind c.args.text kind name headed none
