-- The snapshot that texts make which are put one after another.
use Rattle.std.specs.Prelude.{◌≡◌, ℕ, List, [], ◌∷◌, All, take, slice_get, Some}
use Rattle.vd_outline.specs.declared.outline.TextKind.{TextKind}
use Rattle.vd_outline.specs.Outline.{HasHead}
use Rattle.vd_check.specs.Form.{Entry}
use Rattle.vd_store.specs.Texts.{Texts, Put, no_texts, edited, listed}

-- texts with their names and versions, in the order of the names
abbrev pub Entries : Type 0
Entries = List Entry

-- a text has a head line
pub record IsHeaded (text : List ℕ) : Type 0 where
  pub kind : TextKind
  pub name : List ℕ
  pub head : HasHead text kind name

-- it has none
abbrev pub IsHeadless : List ℕ → Type 0
IsHeadless text = (kind : TextKind) (name : List ℕ) → HasHead text kind name → ⊥

-- the texts before this place have head lines, and the one there has none
pub record IsFirstHeadlessAt (texts : List (List ℕ)) (at : ℕ) : Type 0 where
  pub before : All IsHeaded (take at texts)
  pub text : List ℕ
  pub here : slice_get texts at ≡ Some text
  pub headless : IsHeadless text

-- a text that is put becomes the current one of the name of its head line
pub record PutsText (before : Texts) (text : List ℕ) (after : Texts) : Type 0 where
  pub headed : IsHeaded text
  pub is : after ≡ edited before (Put headed.name text)

-- putting the texts in this order makes these of those before
abbrev pub SubmitsAfter : Texts → List (List ℕ) → Texts → Type 0
SubmitsAfter before [] after = after ≡ before
SubmitsAfter before (text ∷ texts) after = (next : Texts) × PutsText before text next × SubmitsAfter next texts after

-- the snapshot after the texts were put in this order, where there was none before
pub record Submits (texts : List (List ℕ)) (snapshot : Entries) : Type 0 where
  pub current : Texts
  pub after : SubmitsAfter no_texts texts current
  pub is : snapshot ≡ listed current.held
