-- Where a text stops being an outline.
use Rattle.std.specs.Prelude.{◌≡◌, ◌⊎◌, ℕ, ◌^◌, ◌-◌, true, [], ◌∷◌, ◌++◌, length, min}
use Rattle.vd_outline.specs.declared.outline.Outline.{Outline}
use Rattle.vd_outline.specs.declared.outline.OutlineFault.{OutlineFault}
use Rattle.vd_outline.specs.declared.outline.OutlineFault.TheVariants.{NoHead, Bad, Memory}
use Rattle.vd_outline.specs.Lines.{lacks}
use Rattle.vd_outline.specs.Outline.{Bytes, Outlines}

-- memory was wanting, which says nothing of the text
abbrev pub IsMemory : OutlineFault → Type 0
IsMemory NoHead = ⊥
IsMemory (Bad place) = ⊥
IsMemory (Memory fault) = Unit {0}

-- some text that begins with these bytes has an outline
abbrev pub MayBegin : Bytes → Type 0
MayBegin front = (rest : Bytes) × (o : Outline) × Outlines (front ++ rest) o

-- one line or more, the last with its line feed, with which some text begins that has an outline
pub record StandsSoFar (front : Bytes) : Type 0 where
  pub bytes : Bytes
  pub ended : front ≡ bytes ++ 10 ∷ []
  pub may : MayBegin front

-- the lines before this place may stand, and the next one may not stand behind them
pub record IsMisplaced (text : Bytes) (place : ℕ) : Type 0 where
  pub front : Bytes
  pub line : Bytes
  pub rest : Bytes
  pub cut : text ≡ front ++ (line ++ 10 ∷ rest)
  pub one : lacks 10 line ≡ true
  pub so_far : StandsSoFar front
  pub not_more : MayBegin (front ++ (line ++ 10 ∷ [])) → ⊥
  pub at : place ≡ length front

-- the lines before this place may stand, and what follows is a last line without its line feed
pub record IsUnended (text : Bytes) (place : ℕ) : Type 0 where
  pub front : Bytes
  pub line : Bytes
  pub cut : text ≡ front ++ line
  pub one : lacks 10 line ≡ true
  pub some : line ≡ [] → ⊥
  pub so_far : StandsSoFar front
  pub at : place ≡ length front

-- all lines may stand, and more are missing
pub record IsUnfinished (text : Bytes) (place : ℕ) : Type 0 where
  pub so_far : StandsSoFar text
  pub not_whole : (o : Outline) → Outlines text o → ⊥
  pub at : place ≡ length text

-- the text has a head line and no outline, and this is the byte at which the first line begins that cannot stand where it stands, or the text's length where lines are missing
abbrev pub IsBadAt : Bytes → ℕ → Type 0
IsBadAt text place = IsMisplaced text place ⊎ (IsUnended text place ⊎ IsUnfinished text place)

-- the same, for a place that is told in 32 bits
abbrev pub IsBad : Bytes → ℕ → Type 0
IsBad text told = (place : ℕ) × (told ≡ min place (2 ^ 32 - 1)) × IsBadAt text place
