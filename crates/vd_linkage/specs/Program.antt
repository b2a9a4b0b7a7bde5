-- The program of a link over a snapshot: the functions and globals of its units, in the order of the link, with main.
use Rattle.std.specs.Prelude.{◌≡◌, true, List, [], ◌∷◌, ◌++◌, None, Some, Ok, position, codes}
use Rattle.std.specs.Str.{bytes_eq}
use Rattle.vd_base.specs.declared.ctype.Field.{Field}
use Rattle.vd_base.specs.Layout.{size_of}
use Rattle.vd_clight.specs.declared.program.CScope.{CScope}
use Rattle.vd_clight.specs.declared.program.GlobalDef.{GlobalDef}
use Rattle.vd_clight.specs.declared.program.Program.{Program}
use Rattle.vd_clight.specs.declared.syntax.FnText.{FnText}
use Rattle.vd_clight.specs.declared.typed.TypedFn.{TypedFn}
use Rattle.vd_clight.specs.Whole.{is_whole}
use Rattle.vd_cgrammar.specs.declared.parts.Decl.TheVariants as decl
use Rattle.vd_cparse.specs.Section.{AnswersDecl, IsFnSection}
use Rattle.vd_ctyping.specs.Typing.{IsTyped}
use Rattle.vd_heads.specs.declared.content.Part.{Part}
use Rattle.vd_outline.specs.declared.outline.Outline.{Outline}
use Rattle.vd_outline.specs.declared.section.Section.{Section}
use Rattle.vd_outline.specs.declared.section.SectionKind.TheVariants as section
use Rattle.vd_outline.specs.Outline.{Bytes}
use Rattle.vd_scopes.specs.declared.scope.Scopes.{Scopes}
use Rattle.vd_scopes.specs.Answers.{AreInputs}
use Rattle.vd_scopes.specs.Failing.{Accepts}
use Rattle.vd_scopes.specs.Scope.{AreScopes}
use Rattle.vd_linkage.specs.Closure.{HasParts}
use Rattle.vd_linkage.specs.Conditions.{IsLinked}
use Rattle.vd_linkage.specs.Form.{Entry}
use Rattle.vd_linkage.specs.Shape.{Shape, HasShape}

-- Head parts give a scope to the functions of the first: no condition of a head part fails of any, and these are what the first sees.
pub record HasScope (texts : List Bytes) (scope : CScope) : Type 0 where
  pub parts : List Part
  pub say : AreInputs texts parts None
  pub accepted : Accepts parts None
  pub scopes : Scopes
  pub are : AreScopes parts scopes
  pub is : scope ≡ scopes.c

-- the section is a function's, and this is its typed function
pub record IsFunction (scope : CScope) (s : Section) (t : TypedFn) : Type 0 where
  pub function : FnText
  pub read : IsFnSection s.text function
  pub typed : IsTyped scope function t

-- the section is a global's, whose type has this many cells
pub record IsGlobal (scope : CScope) (s : Section) (g : GlobalDef) : Type 0 where
  pub field : Field
  pub read : AnswersDecl s.text (Ok (decl.Global field g.init))
  pub named : g.name ≡ field.name
  pub cells : size_of scope.structs field.typ ≡ Some g.cells

-- the typed functions and the globals of sections, in order; all functions are read and typed
pub data HasCode (scope : CScope) : List Section → List TypedFn → List GlobalDef → Type 0 where
  no_sections : HasCode scope [] [] []
  fn_section : {s : Section} {ss : List Section} {t : TypedFn} {ts : List TypedFn} {gs : List GlobalDef} → s.kind ≡ section.Fn → IsFunction scope s t → HasCode scope ss ts gs → HasCode scope (s ∷ ss) (t ∷ ts) gs
  global_section : {s : Section} {ss : List Section} {ts : List TypedFn} {g : GlobalDef} {gs : List GlobalDef} → s.kind ≡ section.Global → IsGlobal scope s g → HasCode scope ss ts gs → HasCode scope (s ∷ ss) ts (g ∷ gs)
  other_section : {s : Section} {ss : List Section} {ts : List TypedFn} {gs : List GlobalDef} → (s.kind ≡ section.Fn → ⊥) → (s.kind ≡ section.Global → ⊥) → HasCode scope ss ts gs → HasCode scope (s ∷ ss) ts gs

-- the code of a unit, under the scope of its closure's head parts
pub record IsUnitCode (texts : List Entry) (o : Outline) (ts : List TypedFn) (gs : List GlobalDef) : Type 0 where
  pub parts : List Bytes
  pub closure : HasParts texts o parts
  pub scope : CScope
  pub scoped : HasScope parts scope
  pub code : HasCode scope o.sections ts gs

-- the code of units, in order
pub data AreCode (texts : List Entry) : List Outline → List TypedFn → List GlobalDef → Type 0 where
  no_units : AreCode texts [] [] []
  unit : {o : Outline} {os : List Outline} {ts us : List TypedFn} {gs hs : List GlobalDef} → IsUnitCode texts o ts gs → AreCode texts os us hs → AreCode texts (o ∷ os) (ts ++ us) (gs ++ hs)

-- The program has these functions and globals, the first function of that name is its main, and it is whole.
pub record IsMadeOf (fns : List TypedFn) (globals : List GlobalDef) (p : Program) : Type 0 where
  pub has_fns : p.fns ≡ fns
  pub has_globals : p.globals ≡ globals
  pub main : position (λ f. bytes_eq f.name (codes "main")) p.fns ≡ Some p.main
  pub whole : is_whole p ≡ true

-- The link has this program over the texts.
pub record IsProgram (texts : List Entry) (link : Bytes) (p : Program) : Type 0 where
  pub shape : Shape
  pub has_shape : HasShape texts link shape
  pub linked : IsLinked texts link
  pub fns : List TypedFn
  pub globals : List GlobalDef
  pub code : AreCode texts shape.units fns globals
  pub made : IsMadeOf fns globals p
