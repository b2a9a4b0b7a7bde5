-- What a link lists and reaches.
use Rattle.std.specs.Prelude.{◌≡◌, true, false, List, [], ◌∷◌, Some}
use Rattle.vd_outline.specs.declared.outline.Outline.{Outline}
use Rattle.vd_outline.specs.declared.outline.TextKind.TheVariants.{Unit as UnitText, Link}
use Rattle.vd_outline.specs.declared.section.Section.{Section}
use Rattle.vd_outline.specs.Outline.{Bytes, Outlines}
use Rattle.vd_linkage.specs.Closure.{Reach, Interfaces}
use Rattle.vd_linkage.specs.Form.{Entry}
use Rattle.vd_linkage.specs.Reading.{IsListOf, has_name}
use Rattle.vd_linkage.specs.Texts.{text_named, IsOutlined, IsMissing}

-- the text is a link's, is in its grammar and lists these names
pub record IsLinkText (text : Bytes) (names : List Bytes) : Type 0 where
  pub outline : Outline
  pub outlined : Outlines text outline
  pub kind_is : outline.kind ≡ Link
  pub units : Section
  pub alone : outline.sections ≡ units ∷ []
  pub listed : IsListOf units.text names

-- the current text of the name is one
pub record IsLink (texts : List Entry) (link : Bytes) (names : List Bytes) : Type 0 where
  pub text : Bytes
  pub current : text_named link texts ≡ Some text
  pub is : IsLinkText text names

-- the units that have an outline, of names of which each counts once, in order, behind names met before
pub data Units (texts : List Entry) : List Bytes → List Bytes → List Outline → Type 0 where
  no_names : {met : List Bytes} → Units texts met [] []
  again : {met names : List Bytes} {name : Bytes} {os : List Outline} → has_name met name ≡ true → Units texts met names os → Units texts met (name ∷ names) os
  skipped : {met names : List Bytes} {name : Bytes} {os : List Outline} → has_name met name ≡ false → IsMissing texts UnitText name → Units texts (name ∷ met) names os → Units texts met (name ∷ names) os
  taken : {met names : List Bytes} {name : Bytes} {o : Outline} {os : List Outline} → has_name met name ≡ false → IsOutlined texts UnitText name o → Units texts (name ∷ met) names os
      → Units texts met (name ∷ names) (o ∷ os)

-- the names that a link lists, the outlines of its units, the names of interfaces that these reach, and the outlines of those
pub record Shape : Type 0 where
  pub names : List Bytes
  pub units : List Outline
  pub reached : List Bytes
  pub interfaces : List Outline

-- the link has this shape
pub record HasShape (texts : List Entry) (link : Bytes) (shape : Shape) : Type 0 where
  pub lists : IsLink texts link shape.names
  pub has_units : Units texts [] shape.names shape.units
  pub reaches : Reach texts shape.units shape.reached
  pub has_interfaces : Interfaces texts shape.reached shape.interfaces
