-- The code of sections and units, as it is put together.
use Rattle.std.specs.Prelude.{◌≡◌, Bool, true, false, List, [], ◌∷◌, ◌++◌, Option, None, Some}
use Rattle.vd_clight.specs.declared.program.CScope.{CScope}
use Rattle.vd_clight.specs.declared.program.GlobalDef.{GlobalDef}
use Rattle.vd_clight.specs.declared.typed.TypedFn.{TypedFn}
use Rattle.vd_heads.specs.HeadPart.{head_part}
use Rattle.vd_outline.specs.declared.outline.Outline.{Outline}
use Rattle.vd_code.specs.declared.code.Code.{Code}
use Rattle.vd_linkage.specs.Program.{HasCode, HasScope}

-- the code of a unit that reaches no interface
pub record IsAlone (o : Outline) (ts : List TypedFn) (gs : List GlobalDef) : Type 0 where
  pub scope : CScope
  pub scoped : HasScope (head_part o ∷ []) scope
  pub code : HasCode scope o.sections ts gs

-- the code of such units, in order
pub data AreAlone : List Outline → List TypedFn → List GlobalDef → Type 0 where
  no_units : AreAlone [] [] []
  unit : {o : Outline} {os : List Outline} {ts us : List TypedFn} {gs hs : List GlobalDef} → IsAlone o ts gs → AreAlone os us hs → AreAlone (o ∷ os) (ts ++ us) (gs ++ hs)

-- these functions and globals, and no others, have the property
pub record IsOnlyCode (P : List TypedFn → List GlobalDef → Type 0) (ts : List TypedFn) (gs : List GlobalDef) : Type 0 where
  pub has : P ts gs
  pub only : (us : List TypedFn) (hs : List GlobalDef) → P us hs → (us ≡ ts) × (hs ≡ gs)

-- none have it
abbrev pub IsNoCode : (List TypedFn → List GlobalDef → Type 0) → Type 0
IsNoCode P = (ts : List TypedFn) (gs : List GlobalDef) → P ts gs → ⊥

-- the only code that has the property stands behind what was there
pub record IsAdded (P : List TypedFn → List GlobalDef → Type 0) (old new : Code) : Type 0 where
  pub fns : List TypedFn
  pub globals : List GlobalDef
  pub is : IsOnlyCode P fns globals
  pub joined_fns : new.fns ≡ old.fns ++ fns
  pub joined_globals : new.globals ≡ old.globals ++ globals

-- whether some code has the property, which is then added
abbrev pub Adds : (List TypedFn → List GlobalDef → Type 0) → Code → Code → Bool → Type 0
Adds P old new true = IsAdded P old new
Adds P old new false = IsNoCode P

-- the code of units, where they have some
abbrev pub IsCodeOf : List Outline → Option Code → Type 0
IsCodeOf units None = IsNoCode (AreAlone units)
IsCodeOf units (Some code) = IsOnlyCode (AreAlone units) code.fns code.globals
