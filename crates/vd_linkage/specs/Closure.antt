-- Which interfaces texts reach, and in which order: a text's exports, then its uses, each at its first mention, followed by those that
-- it uses. After Verified Software Units, where a unit sees what it imports and exports.
use Rattle.std.specs.Prelude.{◌≡◌, true, false, List, [], ◌∷◌, ◌++◌, map, Option, None, Some}
use Rattle.vd_heads.specs.HeadPart.{head_part}
use Rattle.vd_outline.specs.declared.outline.Outline.{Outline}
use Rattle.vd_outline.specs.declared.outline.TextKind.TheVariants.{Interface}
use Rattle.vd_outline.specs.declared.section.Section.{Section}
use Rattle.vd_outline.specs.declared.section.SectionKind.{SectionKind}
use Rattle.vd_outline.specs.declared.section.SectionKind.TheVariants as section
use Rattle.vd_outline.specs.Lookup.{section_called}
use Rattle.vd_outline.specs.Outline.{Bytes}
use Rattle.vd_linkage.specs.Form.{Entry}
use Rattle.vd_linkage.specs.Reading.{IsListOf, has_name}
use Rattle.vd_linkage.specs.Texts.{IsOutlined, IsMissing}

-- the names that a section lists; one that is absent or not read lists none
pub data ListsBy : Option Section → List Bytes → Type 0 where
  absent : ListsBy None []
  unread : {s : Section} → ((names : List Bytes) → IsListOf s.text names → ⊥) → ListsBy (Some s) []
  read : {s : Section} {names : List Bytes} → IsListOf s.text names → ListsBy (Some s) names

-- the names that a text lists in its section of this kind
abbrev pub Lists : SectionKind → Outline → List Bytes → Type 0
Lists kind o names = ListsBy (section_called kind None o.sections) names

-- the interfaces that an interface uses; where no text of its name is an interface with an outline there are none
pub data Uses (texts : List Entry) (name : Bytes) : List Bytes → Type 0 where
  missing : IsMissing texts Interface name → Uses texts name []
  known : {o : Outline} {names : List Bytes} → IsOutlined texts Interface name o → Lists section.Uses o names → Uses texts name names

-- Names that were met, and what is met after these names are visited in order.
pub data Visits (texts : List Entry) : List Bytes → List Bytes → List Bytes → Type 0 where
  done : {met : List Bytes} → Visits texts met [] met
  again : {met names after : List Bytes} {name : Bytes} → has_name met name ≡ true → Visits texts met names after → Visits texts met (name ∷ names) after
  first : {met names uses inner after : List Bytes} {name : Bytes} → has_name met name ≡ false → Uses texts name uses
      → Visits texts (met ++ name ∷ []) uses inner → Visits texts inner names after → Visits texts met (name ∷ names) after

-- what a text mentions: its exports, then its uses
pub record Mentions (o : Outline) (names : List Bytes) : Type 0 where
  pub exported : List Bytes
  pub used : List Bytes
  pub exports : Lists section.Exports o exported
  pub uses : Lists section.Uses o used
  pub together : names ≡ exported ++ used

-- Names that were met, and what is met after what these texts mention is visited in order.
pub data ReachFrom (texts : List Entry) : List Bytes → List Outline → List Bytes → Type 0 where
  no_texts : {met : List Bytes} → ReachFrom texts met [] met
  text : {met names next after : List Bytes} {o : Outline} {os : List Outline} → Mentions o names → Visits texts met names next → ReachFrom texts next os after → ReachFrom texts met (o ∷ os) after

-- the names of interfaces that these texts reach, in order
abbrev pub Reach : List Entry → List Outline → List Bytes → Type 0
Reach texts os names = ReachFrom texts [] os names

-- the outlines of the names that are interfaces with an outline, in order
pub data Interfaces (texts : List Entry) : List Bytes → List Outline → Type 0 where
  no_names : Interfaces texts [] []
  skipped : {name : Bytes} {names : List Bytes} {os : List Outline} → IsMissing texts Interface name → Interfaces texts names os → Interfaces texts (name ∷ names) os
  taken : {name : Bytes} {names : List Bytes} {o : Outline} {os : List Outline} → IsOutlined texts Interface name o → Interfaces texts names os → Interfaces texts (name ∷ names) (o ∷ os)

-- the head parts of a text's closure: its own, then those of the interfaces that it reaches
pub record HasParts (texts : List Entry) (o : Outline) (parts : List Bytes) : Type 0 where
  pub names : List Bytes
  pub reach : Reach texts (o ∷ []) names
  pub interfaces : List Outline
  pub are : Interfaces texts names interfaces
  pub is : parts ≡ map head_part (o ∷ interfaces)
