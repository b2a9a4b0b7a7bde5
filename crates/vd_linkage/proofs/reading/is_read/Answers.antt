use Rattle.std.proofs.Common.{inl, inr}
use Rattle.vd_outline.specs.declared.section.SectionKind.TheVariants as section
use Rattle.vd_linkage.proofs.Readings.{read_as}
use Rattle.vd_linkage.proofs.reading.is_read.Goals as goal

pub returns-in-Struct : goal.returns-in-Struct
returns-in-Struct c = elim c.in-Struct.is [
  | inl is ↦ read_as c.args.section.now.kind section.Struct c.args.section.now.text c.is_declaration.result is c.is_declaration.ensures
  | inr is ↦ read_as c.args.section.now.kind section.Global c.args.section.now.text c.is_declaration.result is c.is_declaration.ensures
]

pub returns-in-Fn : goal.returns-in-Fn
returns-in-Fn c = read_as c.args.section.now.kind section.Fn c.args.section.now.text c.is_function.result c.in-Fn.is c.is_function.ensures

pub returns-in-Abstract : goal.returns-in-Abstract
returns-in-Abstract c = elim c.in-Abstract.is [
  | inl is ↦ read_as c.args.section.now.kind section.Abstract c.args.section.now.text c.is_logic.result is c.is_logic.ensures
  | inr more ↦ elim more [
    | inl is ↦ read_as c.args.section.now.kind section.Pred c.args.section.now.text c.is_logic.result is c.is_logic.ensures
    | inr is ↦ read_as c.args.section.now.kind section.Spec c.args.section.now.text c.is_logic.result is c.is_logic.ensures
  ]
]
