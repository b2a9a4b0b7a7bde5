-- The first link condition that fails, and that none does.
use Rattle.std.proofs.Common.{◌≡◌, ℕ, ◌<◌, ◌↔◌, Bool, true, false, IsTrue, All, List, [], ◌∷◌, ◌++◌, append-nil, decimal, slice_get, MatchOption, Option, None, Some, refl, ap, sym, ◌∙◌, subst, arith}
use Rattle.vd_outline.specs.declared.outline.Outline.{Outline}
use Rattle.vd_outline.specs.Outline.{Bytes}
use Rattle.vd_linkage.specs.Conditions.{Fails, HasOneMain, IsFirstOther, IsLinkFault, IsLinked, declared_twice, exported_twice, no_interface, no_main, no_unit, not_exported, outside_grammar}
use Rattle.vd_linkage.specs.Declaration.{IsFirstTwice}
use Rattle.vd_linkage.specs.Form.{ArePlain, Entry, is_plain}
use Rattle.vd_link.specs.Results.{HasUnits, PrintsFailure}
use Rattle.vd_units.specs.declared.shape.Listed.{Listed}
use Rattle.vd_units.specs.declared.shape.Listed.TheVariants as listed
use Rattle.vd_units.specs.Listed.{HasListed, Lists, told}
use Rattle.vd_linkage.specs.Shape.{HasShape, IsLink, Shape, Units}
use Rattle.vd_linkage.proofs.Plain.{no_interfaces, reach_nothing, reaches_nothing, units_plain}
use Rattle.vd_linkage.proofs.Single.{link_no_fault, one_link, one_units}
use Rattle.vd_linkage.specs.Closure.{no_names}

-- ---- the shape of a link of the form

pub shape_of : (texts : List Entry) (link : Bytes) (names : List Bytes) (units : List Outline) → ArePlain texts → IsLink texts link names → Units texts [] names units → HasUnits texts link units
shape_of texts link names units h l u = (names, record { lists = l; has_units = u; reaches = reaches_nothing texts units (units_plain texts [] names units h u); has_interfaces = no_names })

-- a link of the form has the units that were found, and reaches nothing
pub record IsAlone (shape : Shape) (units : List Outline) : Type 0 where
  pub units_are : shape.units ≡ units
  pub reaches_none : shape.reached ≡ []
  pub no_others : shape.interfaces ≡ []

pub alone : (texts : List Entry) (link : Bytes) (names : List Bytes) (units : List Outline) (shape : Shape) → ArePlain texts → IsLink texts link names → Units texts [] names units → HasShape texts link shape → IsAlone shape units
alone texts link names units shape h l u s =
    let same : shape.names ≡ names = one_link texts link shape.names names s.lists l in
    let reached : shape.reached ≡ [] = reach_nothing texts shape.units shape.reached (units_plain texts [] shape.names shape.units h s.has_units) s.reaches in
    record {
      units_are = one_units texts [] names shape.units units (subst (λ ns. Units texts [] ns shape.units) same s.has_units) u;
      reaches_none = reached;
      no_others = no_interfaces texts shape.reached shape.interfaces reached s.has_interfaces;
    }

no_place : {X : Type 0} (xs : List X) (n : ℕ) (x : X) → xs ≡ [] → slice_get xs n ≡ Some x → ⊥
no_place [] n x e h = cc
no_place (y ∷ xs) n x e h = cc

-- ---- what fails before

none_before_1 : (texts : List Entry) (link : Bytes) (k : ℕ) (words : List Bytes) → k < 1 → Fails texts link k words → ⊥
none_before_1 texts link k words lt (outside_grammar f) = absurd (omega (arith, lt))
none_before_1 texts link k words lt (no_unit l f) = absurd (omega (arith, lt))
none_before_1 texts link k words lt (no_interface s f) = absurd (omega (arith, lt))
none_before_1 texts link k words lt (exported_twice s f) = absurd (omega (arith, lt))
none_before_1 texts link k words lt (not_exported s f) = absurd (omega (arith, lt))
none_before_1 texts link k words lt (declared_twice s f) = absurd (omega (arith, lt))
none_before_1 texts link k words lt (no_main s f) = absurd (omega (arith, lt))

module _ (texts : List Entry) (link : Bytes) (names : List Bytes) (is_link : IsLink texts link names) where
  none_before_2 : (k : ℕ) (words : List Bytes) → k < 2 → Fails texts link k words → ⊥
  none_before_2 k words lt (outside_grammar {place = place} f) = link_no_fault texts link names place is_link f
  none_before_2 k words lt (no_unit l f) = absurd (omega (arith, lt))
  none_before_2 k words lt (no_interface s f) = absurd (omega (arith, lt))
  none_before_2 k words lt (exported_twice s f) = absurd (omega (arith, lt))
  none_before_2 k words lt (not_exported s f) = absurd (omega (arith, lt))
  none_before_2 k words lt (declared_twice s f) = absurd (omega (arith, lt))
  none_before_2 k words lt (no_main s f) = absurd (omega (arith, lt))

  module _ (units : List Outline) (plain : ArePlain texts) (are_units : Units texts [] names units) (each : (name : Bytes) → IsFirstOther texts names name → ⊥) where
    none_before_6 : (k : ℕ) (words : List Bytes) → k < 6 → Fails texts link k words → ⊥
    none_before_6 k words lt (outside_grammar {place = place} f) = link_no_fault texts link names place is_link f
    none_before_6 k words lt (no_unit {names = others} {name = name} l f) = each name (subst (λ ns. IsFirstOther texts ns name) (one_link texts link others names l is_link) f)
    none_before_6 k words lt (no_interface {shape = shape} {name = name} s f) = no_place shape.reached f.place name (alone texts link names units shape plain is_link are_units s).reaches_none f.at
    none_before_6 k words lt (exported_twice {shape = shape} {name = name} s f) = no_place shape.reached f.place name (alone texts link names units shape plain is_link are_units s).reaches_none f.at
    none_before_6 k words lt (not_exported {shape = shape} {name = name} s f) = no_place shape.reached f.place name (alone texts link names units shape plain is_link are_units s).reaches_none f.at
    none_before_6 k words lt (declared_twice s f) = absurd (omega (arith, lt))
    none_before_6 k words lt (no_main s f) = absurd (omega (arith, lt))

    module _ (once : (name : Bytes) → IsFirstTwice texts [] units name → ⊥) where
      none_before_7 : (k : ℕ) (words : List Bytes) → k < 7 → Fails texts link k words → ⊥
      none_before_7 k words lt (outside_grammar {place = place} f) = link_no_fault texts link names place is_link f
      none_before_7 k words lt (no_unit {names = others} {name = name} l f) = none_before_6 2 (name ∷ []) (omega arith) (no_unit l f)
      none_before_7 k words lt (no_interface {shape = shape} {name = name} s f) = none_before_6 3 (name ∷ []) (omega arith) (no_interface s f)
      none_before_7 k words lt (exported_twice {shape = shape} {name = name} {one = one} {two = two} s f) = none_before_6 4 (name ∷ (one ∷ (two ∷ []))) (omega arith) (exported_twice s f)
      none_before_7 k words lt (not_exported {shape = shape} {name = name} s f) = none_before_6 5 (name ∷ []) (omega arith) (not_exported s f)
      none_before_7 k words lt (declared_twice {shape = shape} {name = name} s f) =
          let a = alone texts link names units shape plain is_link are_units s in
          once name (subst (λ us. IsFirstTwice texts [] us name) a.units_are (subst (λ is. IsFirstTwice texts is shape.units name) a.no_others f))
      none_before_7 k words lt (no_main s f) = absurd (omega (arith, lt))

      pub is_linked : HasOneMain units → IsLinked texts link
      is_linked main k words (outside_grammar {place = place} f) = link_no_fault texts link names place is_link f
      is_linked main k words (no_unit {names = others} {name = name} l f) = none_before_6 2 (name ∷ []) (omega arith) (no_unit l f)
      is_linked main k words (no_interface {shape = shape} {name = name} s f) = none_before_6 3 (name ∷ []) (omega arith) (no_interface s f)
      is_linked main k words (exported_twice {shape = shape} {name = name} {one = one} {two = two} s f) = none_before_6 4 (name ∷ (one ∷ (two ∷ []))) (omega arith) (exported_twice s f)
      is_linked main k words (not_exported {shape = shape} {name = name} s f) = none_before_6 5 (name ∷ []) (omega arith) (not_exported s f)
      is_linked main k words (declared_twice {shape = shape} {name = name} s f) = none_before_7 6 (name ∷ []) (omega arith) (declared_twice s f)
      is_linked main k words (no_main {shape = shape} s f) = f (subst HasOneMain (sym (alone texts link names units shape plain is_link are_units s).units_are) main)

-- ---- what is printed

pub prints_grammar : (texts : List Entry) (link : Bytes) (place : ℕ) (text : Bytes) → IsLinkFault texts link place → text ≡ decimal 1 ++ 32 ∷ decimal (told place) → PrintsFailure texts link text
prints_grammar texts link place text f e = (1, decimal (told place) ∷ [], record { fails = outside_grammar f; before = none_before_1 texts link }, e ∙ ap (λ x. decimal 1 ++ 32 ∷ x) (sym (append-nil (decimal (told place)))))

pub prints_unit : (texts : List Entry) (link : Bytes) (names : List Bytes) (name text : Bytes) → IsLink texts link names → IsFirstOther texts names name → text ≡ decimal 2 ++ 32 ∷ name → PrintsFailure texts link text
prints_unit texts link names name text l f e = (2, name ∷ [], record { fails = no_unit l f; before = none_before_2 texts link names l }, e ∙ ap (λ x. decimal 2 ++ 32 ∷ x) (sym (append-nil name)))

pub prints_twice : (texts : List Entry) (link : Bytes) (names : List Bytes) (units : List Outline) (name text : Bytes) → ArePlain texts → IsLink texts link names → Units texts [] names units → ((other : Bytes) → IsFirstOther texts names other → ⊥)
    → IsFirstTwice texts [] units name → text ≡ decimal 6 ++ 32 ∷ name → PrintsFailure texts link text
prints_twice texts link names units name text h l u each f e =
    (6, name ∷ [], record { fails = declared_twice (shape_of texts link names units h l u).1 f; before = none_before_6 texts link names l units h u each }, e ∙ ap (λ x. decimal 6 ++ 32 ∷ x) (sym (append-nil name)))

pub prints_main : (texts : List Entry) (link : Bytes) (names : List Bytes) (units : List Outline) (text : Bytes) → ArePlain texts → IsLink texts link names → Units texts [] names units → ((other : Bytes) → IsFirstOther texts names other → ⊥)
    → ((name : Bytes) → IsFirstTwice texts [] units name → ⊥) → (HasOneMain units → ⊥) → text ≡ decimal 7 → PrintsFailure texts link text
prints_main texts link names units text h l u each once f e =
    (7, [], record { fails = no_main (shape_of texts link names units h l u).1 f; before = none_before_7 texts link names l units h u each once }, e ∙ sym (append-nil (decimal 7)))

-- ---- as it is found

pub prints_outside : (texts : List Entry) (link : Bytes) (place : ℕ) (text : Bytes) → Lists texts link (listed.Outside place) → text ≡ decimal 1 ++ 32 ∷ decimal place → PrintsFailure texts link text
prints_outside texts link place text f e = prints_grammar texts link f.0 text f.1 (e ∙ ap (λ n. decimal 1 ++ 32 ∷ decimal n) f.2)

module _ (texts : List Entry) (link : Bytes) (units : List Outline) (plain : ArePlain texts) (has : HasListed texts link units) where
  pub are_plain : All (λ o. is_plain o ≡ true) units
  are_plain = units_plain texts [] has.names units plain has.has_units

  pub their_shape : HasUnits texts link units
  their_shape = shape_of texts link has.names units plain has.lists has.has_units

  pub prints_name : (name text : Bytes) → IsFirstTwice texts [] units name → text ≡ decimal 6 ++ 32 ∷ name → PrintsFailure texts link text
  prints_name name text = prints_twice texts link has.names units name text plain has.lists has.has_units has.none_other

  module _ (once : (name : Bytes) → IsFirstTwice texts [] units name → ⊥) where
    pub prints_no_main : (text : Bytes) → (HasOneMain units → ⊥) → text ≡ decimal 7 → PrintsFailure texts link text
    prints_no_main text = prints_main texts link has.names units text plain has.lists has.has_units has.none_other once

    pub fits : HasOneMain units → IsLinked texts link × HasUnits texts link units
    fits main = (is_linked texts link has.names has.lists units plain has.has_units has.none_other once main, their_shape)

-- what is found is one case of an answer
pub as_outside : (texts : List Entry) (link : Bytes) (found : Listed) (place : ℕ) → found ≡ listed.Outside place → Lists texts link found → Lists texts link (listed.Outside place)
as_outside texts link found place e h = subst (Lists texts link) e h

pub as_other : (texts : List Entry) (link : Bytes) (found : Listed) (name : Bytes) → found ≡ listed.Other name → Lists texts link found → Lists texts link (listed.Other name)
as_other texts link found name e h = subst (Lists texts link) e h

pub as_units : (texts : List Entry) (link : Bytes) (found : Listed) (units : List Outline) → found ≡ listed.Units units → Lists texts link found → HasListed texts link units
as_units texts link found units e h = subst (Lists texts link) e h

-- what is answered of names that are declared twice
abbrev pub TellsTwice : List Outline → Option Bytes → Type 0
TellsTwice units found = (texts : List Entry) → All (λ o. is_plain o ≡ true) units → MatchOption found ((name : Bytes) → IsFirstTwice texts [] units name → ⊥) (λ name. IsFirstTwice texts [] units name)

pub twice_of : (texts : List Entry) (link : Bytes) (units : List Outline) (plain : ArePlain texts) (has : HasListed texts link units) (found : Option Bytes) (name : Bytes) → found ≡ Some name → TellsTwice units found → IsFirstTwice texts [] units name
twice_of texts link units plain has found name e h =
    subst (λ f. MatchOption f ((other : Bytes) → IsFirstTwice texts [] units other → ⊥) (λ other. IsFirstTwice texts [] units other)) e (h texts (are_plain texts link units plain has))

pub once_of : (texts : List Entry) (link : Bytes) (units : List Outline) (plain : ArePlain texts) (has : HasListed texts link units) (found : Option Bytes) → found ≡ None → TellsTwice units found → (name : Bytes) → IsFirstTwice texts [] units name → ⊥
once_of texts link units plain has found e h =
    subst (λ f. MatchOption f ((other : Bytes) → IsFirstTwice texts [] units other → ⊥) (λ other. IsFirstTwice texts [] units other)) e (h texts (are_plain texts link units plain has))

pub not_one : (units : List Outline) (one : Bool) → IsTrue one ↔ HasOneMain units → one ≡ false → HasOneMain units → ⊥
not_one units true h e main = cc
not_one units false h e main = (let t = h.1 main in cc)

pub one_of : (units : List Outline) (one : Bool) → IsTrue one ↔ HasOneMain units → one ≡ true → HasOneMain units
one_of units true h e = h.0 refl
one_of units false h e = absurd (cc)
