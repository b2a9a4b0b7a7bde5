use Rattle.std.proofs.Common.{inl, inr}
use Rattle.vd_outline.specs.declared.section.SectionKind.TheVariants as section
use Rattle.vd_outline.specs.Outline.{header_line}
use Rattle.vd_outline.specs.Lines.{joined}
use Rattle.vd_scopes.proofs.Placing.{section_cut}
use Rattle.vd_scopes.proofs.Reading.{says_by_kind, says_otherwise}
use Rattle.vd_scopes.proofs.contents.content_of.Goals as goal

pub returns-in-Exports : goal.returns-in-Exports
returns-in-Exports c = λ kind is.
    let s = c.args.section.now in
    says_by_kind s.kind section.Exports s.text c.args.at c.exports.result c.in-Exports.is (c.exports.ensures (header_line s.kind s.name) (joined is.lines) (section_cut kind s is))

pub returns-in-Struct : goal.returns-in-Struct
returns-in-Struct c = λ kind is.
    let s = c.args.section.now in
    elim c.in-Struct.is [
      | inl e ↦ says_by_kind s.kind section.Struct s.text c.args.at c.declaration.result e c.declaration.ensures
      | inr e ↦ says_by_kind s.kind section.Global s.text c.args.at c.declaration.result e c.declaration.ensures
    ]

pub returns-in-Abstract : goal.returns-in-Abstract
returns-in-Abstract c = λ kind is.
    let s = c.args.section.now in
    elim c.in-Abstract.is [
      | inl e ↦ says_by_kind s.kind section.Abstract s.text c.args.at c.logic.result e c.logic.ensures
      | inr more ↦ elim more [
        | inl e ↦ says_by_kind s.kind section.Pred s.text c.args.at c.logic.result e c.logic.ensures
        | inr e ↦ says_by_kind s.kind section.Spec s.text c.args.at c.logic.result e c.logic.ensures
      ]
    ]

pub returns-in-Uses : goal.returns-in-Uses
returns-in-Uses c = λ kind is.
    let s = c.args.section.now in
    says_otherwise s.kind s.text c.args.at c.uses.result c.in-Uses.is (c.uses.ensures (header_line s.kind s.name) (joined is.lines) (section_cut kind s is))
