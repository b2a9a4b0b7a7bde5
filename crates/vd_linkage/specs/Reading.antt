-- What sections say to those who link them.
use Rattle.std.specs.Prelude.{◌≡◌, Bool, List, map, Ok}
use Rattle.std.specs.List.{list_any}
use Rattle.std.specs.Str.{bytes_eq}
use Rattle.vd_clight.specs.declared.syntax.FnText.{FnText}
use Rattle.vd_cgrammar.specs.declared.parts.Decl.{Decl}
use Rattle.vd_cparse.specs.Section.{AnswersDecl, IsFnSection}
use Rattle.vd_heads.specs.declared.content.Mention.{Mention}
use Rattle.vd_listing.specs.Listing.{IsListing}
use Rattle.vd_outline.specs.declared.section.SectionKind.{SectionKind}
use Rattle.vd_outline.specs.declared.section.SectionKind.TheVariants as section
use Rattle.vd_outline.specs.Outline.{Bytes}
use Rattle.vd_sparse.specs.declared.text.LogicText.{LogicText}
use Rattle.vd_sparse.specs.Sections.{AnswersLogic}

-- The text of a section lists these names: `uses`, `exports` or `units`.
pub record IsListOf (text : Bytes) (names : List Bytes) : Type 0 where
  pub mentions : List Mention
  pub listed : IsListing text (Ok mentions)
  pub are : names ≡ map (λ m. m.name) mentions

-- a name is among names
abbrev pub has_name : List Bytes → Bytes → Bool
has_name names name = list_any (λ n. bytes_eq n name) names

-- A section of this kind, which declares a name, is read: it is in its grammar.
abbrev pub IsRead : SectionKind → Bytes → Type 0
IsRead section.Struct text = (d : Decl) × AnswersDecl text (Ok d)
IsRead section.Global text = (d : Decl) × AnswersDecl text (Ok d)
IsRead section.Fn text = (f : FnText) × IsFnSection text f
IsRead section.Abstract text = (t : LogicText) × AnswersLogic text (Ok t)
IsRead section.Pred text = (t : LogicText) × AnswersLogic text (Ok t)
IsRead section.Spec text = (t : LogicText) × AnswersLogic text (Ok t)
IsRead _ text = ⊥
