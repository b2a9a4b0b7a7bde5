-- What a link lists, as the code finds it.
use Rattle.std.specs.Prelude.{◌≡◌, ℕ, ◌-◌, ◌^◌, min, Bool, true, false, List, [], ◌∷◌, Option, None, Some}
use Rattle.vd_outline.specs.declared.outline.Outline.{Outline}
use Rattle.vd_outline.specs.declared.outline.TextKind.{TextKind}
use Rattle.vd_outline.specs.declared.outline.TextKind.TheVariants.{Interface, Unit as UnitText, Link}
use Rattle.vd_outline.specs.Outline.{Bytes}
use Rattle.vd_linkage.specs.Conditions.{IsFaultIn, IsFirstOther, IsLinkFault}
use Rattle.vd_linkage.specs.Form.{Entry}
use Rattle.vd_linkage.specs.Shape.{IsLink, Units}
use Rattle.vd_linkage.specs.Texts.{IsOutlined}
use Rattle.vd_units.specs.declared.shape.Listed.{Listed}
use Rattle.vd_units.specs.declared.shape.Listed.TheVariants as listed

-- a place is told in 32 bits
abbrev pub told : ℕ → ℕ
told place = min place (2 ^ 32 - 1)

-- a head line of this kind and name, if there is one, is a link's
abbrev pub tells_link : Option (TextKind × Bytes) → Bool
tells_link (Some (Interface, name)) = false
tells_link (Some (UnitText, name)) = false
tells_link (Some (Link, name)) = true
tells_link None = false

-- the told place is one at which a link's text is outside its grammar
abbrev pub IsToldIn : Bytes → ℕ → Type 0
IsToldIn text place = (at : ℕ) × IsFaultIn text at × (place ≡ told at)

-- the names are those of the units with these outlines
pub data AreUnits (texts : List Entry) : List Bytes → List Outline → Type 0 where
  no_names : AreUnits texts [] []
  one_more : {name : Bytes} {names : List Bytes} {o : Outline} {os : List Outline} → IsOutlined texts UnitText name o → AreUnits texts names os → AreUnits texts (name ∷ names) (o ∷ os)

-- the units of a link, each listed once, of names that the link lists
pub record HasListed (texts : List Entry) (link : Bytes) (units : List Outline) : Type 0 where
  pub names : List Bytes
  pub lists : IsLink texts link names
  pub has_units : Units texts [] names units
  pub none_other : (name : Bytes) → IsFirstOther texts names name → ⊥

-- a link lists these units; or its text is outside its grammar at a place; or this is the first of its names that is no unit or stands again
abbrev pub Lists : List Entry → Bytes → Listed → Type 0
Lists texts link (listed.Units units) = HasListed texts link units
Lists texts link (listed.Outside place) = (at : ℕ) × IsLinkFault texts link at × (place ≡ told at)
Lists texts link (listed.Other name) = (names : List Bytes) × IsLink texts link names × IsFirstOther texts names name
