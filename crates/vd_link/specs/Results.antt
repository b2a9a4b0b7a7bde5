-- What the parts of linking answer.
use Rattle.std.specs.Prelude.{◌≡◌, ℕ, List, []}
use Rattle.vd_outline.specs.declared.outline.Outline.{Outline}
use Rattle.vd_outline.specs.Outline.{Bytes}
use Rattle.vd_link.specs.declared.linking.Fit.{Fit}
use Rattle.vd_link.specs.declared.linking.Fit.TheVariants as fit
use Rattle.vd_linkage.specs.Conditions.{IsFirstFailure, printed}
use Rattle.vd_linkage.specs.Form.{Entry}
use Rattle.vd_linkage.specs.Shape.{HasShape}

-- P of the outlines that were found, or Q of the condition that fails, as it is printed
abbrev pub Fits : Fit → (List Outline → Type 0) → (Bytes → Type 0) → Type 0
Fits (fit.Units units) P Q = P units
Fits (fit.Fails text) P Q = Q text

-- the text prints the first condition that fails
abbrev pub PrintsFailure : List Entry → Bytes → Bytes → Type 0
PrintsFailure texts link text = (condition : ℕ) × (words : List Bytes) × IsFirstFailure texts link condition words × (text ≡ printed condition words)

-- the link lists these units, which reach no interface
abbrev pub HasUnits : List Entry → Bytes → List Outline → Type 0
HasUnits texts link units = (names : List Bytes) × HasShape texts link (record { names = names; units = units; reached = []; interfaces = [] })
