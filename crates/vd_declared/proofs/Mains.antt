-- The units that have a function main.
use Rattle.std.proofs.Common.{◌≡◌, ◌↔◌, ◌<◌, ◌≤◌, ◌+◌, ℕ, Bool, true, false, IsTrue, List, [], length, get_or, slice_get, Option, None, Some, inl, inr, codes, refl, sym, ◌∙◌, subst, arith}
use Rattle.std.proofs.lemmas.Bool.{cases_lt}
use Rattle.std.proofs.lemmas.Option.{slice_get_read, slice_get_within}
use Rattle.std.specs.Bool.{beq}
use Rattle.std.specs.Option.{is_some, option_eq}
use Rattle.vd_base.specs.declared.ctype.CType.{Int}
use Rattle.vd_cparse.specs.Section.{IsFnSection}
use Rattle.vd_clight.specs.declared.syntax.FnText.{FnText}
use Rattle.vd_outline.specs.declared.outline.Outline.{Outline}
use Rattle.vd_outline.specs.declared.section.Section.{Section}
use Rattle.vd_outline.specs.declared.section.SectionKind.TheVariants as section
use Rattle.vd_outline.specs.Lookup.{section_called}
use Rattle.vd_linkage.specs.Conditions.{HasMain, HasOneMain, IsMainIn}
use Rattle.vd_linkage.specs.Only.{IsOnly}
use Rattle.vd_linkage.proofs.Lists.{some_same}

-- what is read in the section is the unit's main
pub main_of_section : (unit : Outline) (one : Section) → section_called section.Fn (Some (codes "main")) unit.sections ≡ Some one → (read : Option FnText) → IsOnly (IsFnSection one.text) read → IsOnly (IsMainIn unit) read
main_of_section unit one at None none = λ f m. none f (subst (λ s. IsFnSection s.text f) (some_same m.one one (sym m.found ∙ at)) m.read)
main_of_section unit one at (Some f) is = (record { one = one; found = at; read = is.0 }, λ g m. is.1 g (subst (λ s. IsFnSection s.text g) (some_same m.one one (sym m.found ∙ at)) m.read))

-- the function is `int main ( void )` but for its name
abbrev pub IsPlainMain : FnText → Type 0
IsPlainMain f = (f.ret ≡ Int) × (f.params ≡ [])

-- one of the first n units has a main, and the flag says whether it is `int main ( void )`
pub record HasOneBelow (units : List Outline) (n : ℕ) (flag : Bool) : Type 0 where
  pub place : ℕ
  pub function : FnText
  pub below : place < n
  pub main : HasMain units place function
  pub says : IsTrue flag ↔ IsPlainMain function
  pub no_other : (k : ℕ) (g : FnText) → k < n → HasMain units k g → k ≡ place
  pub only : (g : FnText) → HasMain units place g → g ≡ function

-- what is known after the first n units
abbrev pub FoundBelow : List Outline → ℕ → Option Bool → Type 0
FoundBelow units n None = (k : ℕ) (g : FnText) → k < n → HasMain units k g → ⊥
FoundBelow units n (Some flag) = HasOneBelow units n flag

here : (units : List Outline) (n : ℕ) (o : Outline) (g : FnText) → slice_get units n ≡ Some o → HasMain units n g → IsMainIn o g
here units n o g at h = subst (λ x. IsMainIn x g) (some_same h.outline o (sym h.at ∙ at)) h.main

below_or_at : (k n : ℕ) → k < n + 1 → (k < n → ⊥) → k ≡ n
below_or_at k n lt not = elim (cases_lt k n) [ inl below ↦ absurd (not below) | inr past ↦ omega (arith, lt, past) ]

-- a unit without a main
pub found_none : (units : List Outline) (n : ℕ) (o : Outline) (found : Option Bool) → slice_get units n ≡ Some o → IsOnly (IsMainIn o) None → FoundBelow units n found → FoundBelow units (n + 1) found
found_none units n o None at none h = λ k g lt m. elim (cases_lt k n) [
  | inl below ↦ h k g below m
  | inr past ↦ (let e : k ≡ n = omega (arith, lt, past) in none g (here units n o g at (subst (λ x. HasMain units x g) e m)))
]
found_none units n o (Some flag) at none h = record {
  place = h.place;
  function = h.function;
  below = (let b = h.below in omega (arith, b));
  main = h.main;
  says = h.says;
  no_other = λ k g lt m. elim (cases_lt k n) [
    | inl below ↦ h.no_other k g below m
    | inr past ↦ (let e : k ≡ n = omega (arith, lt, past) in absurd (none g (here units n o g at (subst (λ x. HasMain units x g) e m))))
  ];
  only = h.only;
}

-- the first unit with a main
pub found_first : (units : List Outline) (n : ℕ) (o : Outline) (f : FnText) (flag : Bool) → slice_get units n ≡ Some o → IsOnly (IsMainIn o) (Some f) → IsTrue flag ↔ IsPlainMain f → FoundBelow units n None → FoundBelow units (n + 1) (Some flag)
found_first units n o f flag at is says h = record {
  place = n;
  function = f;
  below = omega arith;
  main = record { outline = o; at = at; main = is.0 };
  says = says;
  no_other = λ k g lt m. below_or_at k n lt (λ below. h k g below m);
  only = λ g m. is.1 g (here units n o g at m);
}

-- a second unit with one
pub found_second : (units : List Outline) (n : ℕ) (o : Outline) (f : FnText) (flag : Bool) → slice_get units n ≡ Some o → IsOnly (IsMainIn o) (Some f) → FoundBelow units n (Some flag) → HasOneMain units → ⊥
found_second units n o f flag at is h m =
    let first : h.place ≡ m.place = m.no_other h.place h.function h.main in
    let second : n ≡ m.place = m.no_other n f (record { outline = o; at = at; main = is.0 }) in
    let b = h.below in
    omega (arith, b, first, second)

pub found_all : (units : List Outline) (n : ℕ) (flag : Bool) → length units ≤ n → FoundBelow units n (Some flag) → IsTrue flag ↔ HasOneMain units
found_all units n flag past h = (
  λ t. (let p = h.says.0 t in record { place = h.place; function = h.function; main = h.main; returns = p.0; takes = p.1; no_other = λ k g m. h.no_other k g (within k g m) m }),
  λ m. h.says.1 (let same : m.place ≡ h.place = h.no_other m.place m.function (within m.place m.function m.main) m.main in
      let fn : m.function ≡ h.function = h.only m.function (subst (λ x. HasMain units x m.function) same m.main) in
      (subst (λ x. x.ret ≡ Int) fn m.returns, subst (λ x. x.params ≡ []) fn m.takes)),
) where
  within : (k : ℕ) (g : FnText) → HasMain units k g → k < n
  within k g m = (let w = slice_get_within units k m.outline m.at in omega (arith, w, past))

pub found_no : (units : List Outline) (n : ℕ) → length units ≤ n → FoundBelow units n None → HasOneMain units → ⊥
found_no units n past h m = h m.place m.function (let w = slice_get_within units m.place m.main.outline m.main.at in omega (arith, w, past)) m.main

-- ---- as the loop has it

none_some : (found : Option Bool) → is_some found ≡ false → found ≡ None
none_some None e = refl
none_some (Some flag) e = absurd (cc)

-- the unit of number n is looked at
module _ (units items : List Outline) (n : ℕ) (o : Outline) (main : Option FnText) (found next : Option Bool) (same : items ≡ units) (within : n < length items) (at : o ≡ get_or items n o) (only : IsOnly (IsMainIn o) main)
    (before : FoundBelow units n found) where
  stands : slice_get units n ≡ Some o
  stands = subst (λ xs. slice_get xs n ≡ Some o) same (slice_get_read items (length items) n o refl within at)

  pub unit_without : main ≡ None → next ≡ found → FoundBelow units (n + 1) next
  unit_without none kept = subst (FoundBelow units (n + 1)) (sym kept) (found_none units n o found stands (subst (IsOnly (IsMainIn o)) none only) before)

  pub unit_with : (f : FnText) (flag : Bool) → main ≡ Some f → is_some found ≡ false → IsTrue flag ↔ IsPlainMain f → next ≡ Some flag → FoundBelow units (n + 1) next
  unit_with f flag is first says now =
      subst (FoundBelow units (n + 1)) (sym now) (found_first units n o f flag stands (subst (IsOnly (IsMainIn o)) is only) says (subst (FoundBelow units n) (none_some found first) before))

  pub unit_with_second : (f : FnText) → main ≡ Some f → is_some found ≡ true → HasOneMain units → ⊥
  unit_with_second f is second = go found before second where
    go : (known : Option Bool) → FoundBelow units n known → is_some known ≡ true → HasOneMain units → ⊥
    go None h e = absurd (cc)
    go (Some flag) h e = found_second units n o f flag stands (subst (IsOnly (IsMainIn o)) is only) h

-- all units were looked at
pub units_with : (units items : List Outline) (n : ℕ) (found : Option Bool) (one : Bool) → items ≡ units → length items ≤ n → FoundBelow units n found → one ≡ option_eq beq found (Some true) → IsTrue one ↔ HasOneMain units
units_with units items n None one same past h e = (λ t. absurd (cc), λ m. absurd (found_no units n (subst (λ xs. length xs ≤ n) same past) h m))
units_with units items n (Some flag) one same past h e = subst (λ b. IsTrue b ↔ HasOneMain units) (go flag ∙ sym e) (found_all units n flag (subst (λ xs. length xs ≤ n) same past) h) where
  go : (b : Bool) → b ≡ beq b true
  go true = refl
  go false = refl
