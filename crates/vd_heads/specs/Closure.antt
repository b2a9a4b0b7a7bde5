-- The closure of a part: itself, and the interfaces reached by what it exports and uses. A cycle is ordinary.
use Rattle.std.specs.Prelude.{◌≡◌, ◌⊎◌, ◌<◌, ℕ, Bool, true, false, if◌then◌else◌, List, [], Option, None, Some, slice_get, position}
use Rattle.std.specs.List.{list_any}
use Rattle.std.specs.Str.{bytes_eq}
use Rattle.vd_outline.specs.declared.outline.TextKind.{TextKind}
use Rattle.vd_outline.specs.declared.outline.TextKind.TheVariants as text
use Rattle.vd_heads.specs.declared.content.Content.{Content}
use Rattle.vd_heads.specs.declared.content.Content.TheVariants as content
use Rattle.vd_heads.specs.declared.content.HeadSection.{HeadSection}
use Rattle.vd_heads.specs.declared.content.Mention.{Mention}
use Rattle.vd_heads.specs.declared.content.Part.{Part}
use Rattle.vd_heads.specs.declared.table.Space.{Space}
use Rattle.vd_heads.specs.Declaration.{Bytes, IsSection, IsDeclared}

abbrev pub is_interface : TextKind → Bool
is_interface text.Interface = true
is_interface _ = false

abbrev pub is_unit : TextKind → Bool
is_unit text.Unit = true
is_unit _ = false

-- the name of the interface that a head line is of
abbrev pub interface_name : Option (TextKind × Bytes) → Option Bytes
interface_name None = None
interface_name (Some head) = if is_interface head.0 then Some head.1 else None

-- the head line is that of an interface of this name
abbrev pub heads_interface : Bytes → Option (TextKind × Bytes) → Bool
heads_interface name None = false
heads_interface name (Some head) = if is_interface head.0 then bytes_eq head.1 name else false

-- the number of the interface of a name among the parts
abbrev pub interface_at : List Part → Bytes → Option ℕ
interface_at parts name = position (λ p. heads_interface name p.head) parts

abbrev pub lists : Bytes → List Mention → Bool
lists name mentions = list_any (λ m. bytes_eq m.name name) mentions

-- the names that a section exports, and those that it exports or uses
abbrev pub exported : Content → List Mention
exported (content.Exports mentions) = mentions
exported _ = []

abbrev pub mentioned : Content → List Mention
mentioned (content.Uses mentions) = mentions
mentioned c = exported c

abbrev pub exports_name : Bytes → Content → Bool
exports_name name c = lists name (exported c)

abbrev pub mentions_name : Bytes → Content → Bool
mentions_name name c = lists name (mentioned c)

module _ (parts : List Part) where
  -- The part of number k exports or uses the interface of number n.
  pub record Mentions (k n : ℕ) : Type 0 where
    pub number : ℕ
    pub section : HeadSection
    pub name : Bytes
    pub stands : IsSection parts k number section
    pub mentioned : mentions_name name section.content ≡ true
    pub is : interface_at parts name ≡ Some n

  -- The part of number n is in the closure of that of number k.
  pub data Reaches (k : ℕ) : ℕ → Type 0 where
    itself : Reaches k k
    further : {m n : ℕ} → Reaches k m → Mentions m n → Reaches k n

  -- The part is that of a unit.
  pub record IsUnit (k : ℕ) : Type 0 where
    pub part : Part
    pub name : Bytes
    pub stands : slice_get parts k ≡ Some part
    pub headed : part.head ≡ Some (text.Unit, name)

  -- The unit of number k exports the interface of number n.
  pub record Exports (k n : ℕ) : Type 0 where
    pub number : ℕ
    pub section : HeadSection
    pub name : Bytes
    pub unit : IsUnit k
    pub stands : IsSection parts k number section
    pub exported : exports_name name section.content ≡ true
    pub is : interface_at parts name ≡ Some n

  -- The part of number own sees a declaration of the name.
  pub record Sees (own : ℕ) (s : Space) (name : Bytes) (k i : ℕ) (c : Content) : Type 0 where
    pub reached : Reaches own k
    pub declared : IsDeclared parts s name k i c

  -- Some declaration of the name is seen.
  abbrev pub Knows : ℕ → Space → Bytes → Type 0
  Knows own s name = (k : ℕ) × (i : ℕ) × (c : Content) × Sees own s name k i c

  -- The part itself does not declare the name before its section of that number.
  abbrev pub IsFirstOwn : ℕ → Space → Bytes → ℕ → Type 0
  IsFirstOwn own s name i = (j : ℕ) (c : Content) → j < i → IsDeclared parts s name own j c → ⊥

  -- What a name means to a part: what the part itself declares, else what it sees declared. Where no name is declared twice, that is one thing.
  abbrev pub Means : ℕ → Space → Bytes → Content → Type 0
  Means own s name c =
      ((i : ℕ) × IsDeclared parts s name own i c × IsFirstOwn own s name i)
      ⊎ (((i : ℕ) (d : Content) → IsDeclared parts s name own i d → ⊥) × ((k : ℕ) × (i : ℕ) × Sees own s name k i c))

  -- A name means one thing at most to a part.
  abbrev pub IsUnambiguous : ℕ → Type 0
  IsUnambiguous own = (s : Space) (name : Bytes) (c d : Content) → Means own s name c → Means own s name d → c ≡ d

-- What a name means is what an option says, or nothing.
abbrev pub MeansOption : List Part → ℕ → Space → Bytes → Option Content → Type 0
MeansOption parts own s name None = (c : Content) → Means parts own s name c → ⊥
MeansOption parts own s name (Some c) = Means parts own s name c
