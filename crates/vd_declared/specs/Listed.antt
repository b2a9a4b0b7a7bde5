-- What units declare, as the code lists it.
use Rattle.std.specs.Prelude.{◌≡◌, ◌≢◌, ℕ, suc, ◌<◌, List, [], ◌∷◌, ◌++◌, Some, slice_get}
use Rattle.vd_heads.specs.declared.table.Space.{Space}
use Rattle.vd_heads.specs.Declaration.{Bytes}
use Rattle.vd_outline.specs.declared.outline.Outline.{Outline}
use Rattle.vd_outline.specs.declared.section.Section.{Section}
use Rattle.vd_declared.specs.declared.declared.Declaration.{Declaration}
use Rattle.vd_linkage.specs.Declaration.{Declares}

-- the declaration is what a section declares, which has that number in a unit
pub record IsOf (unit place : ℕ) (s : Section) (d : Declaration) : Type 0 where
  pub declares : Declares s d.space d.name.now
  pub of_unit : d.unit ≡ unit
  pub of_section : d.section ≡ place

-- What sections of a unit declare, the first of which has that number.
pub data SectionsDeclare (unit : ℕ) : ℕ → List Section → List Declaration → Type 0 where
  no_sections : {i : ℕ} → SectionsDeclare unit i [] []
  silent : {i : ℕ} {s : Section} {ss : List Section} {ds : List Declaration} → ((space : Space) (name : Bytes) → Declares s space name → ⊥) → SectionsDeclare unit (suc i) ss ds → SectionsDeclare unit i (s ∷ ss) ds
  declaring : {i : ℕ} {s : Section} {ss : List Section} {d : Declaration} {ds : List Declaration} → IsOf unit i s d → SectionsDeclare unit (suc i) ss ds → SectionsDeclare unit i (s ∷ ss) (d ∷ ds)

-- what the sections of a unit declare stands behind what was listed
pub record AddsDeclarations (unit : ℕ) (sections : List Section) (old new : List Declaration) : Type 0 where
  pub added : List Declaration
  pub are : SectionsDeclare unit 0 sections added
  pub joined : new ≡ old ++ added

-- What units declare, the first of which has that number.
pub data UnitsDeclare : ℕ → List Outline → List Declaration → Type 0 where
  no_units : {k : ℕ} → UnitsDeclare k [] []
  unit : {k : ℕ} {o : Outline} {os : List Outline} {ds es : List Declaration} → SectionsDeclare k 0 o.sections ds → UnitsDeclare (suc k) os es → UnitsDeclare k (o ∷ os) (ds ++ es)

-- another unit declares the name too
pub record IsShared (ds : List Declaration) (d : Declaration) : Type 0 where
  pub place : ℕ
  pub other : Declaration
  pub at : slice_get ds place ≡ Some other
  pub same_space : other.space ≡ d.space
  pub same_name : other.name.now ≡ d.name.now
  pub apart : other.unit ≢ d.unit

-- this is the name of the first that is shared
pub record IsFirstShared (ds : List Declaration) (name : Bytes) : Type 0 where
  pub place : ℕ
  pub one : Declaration
  pub at : slice_get ds place ≡ Some one
  pub named : one.name.now ≡ name
  pub shared : IsShared ds one
  pub before : (k : ℕ) (d : Declaration) → k < place → slice_get ds k ≡ Some d → IsShared ds d → ⊥

-- none is
abbrev pub NoneShared : List Declaration → Type 0
NoneShared ds = (k : ℕ) (d : Declaration) → slice_get ds k ≡ Some d → IsShared ds d → ⊥
