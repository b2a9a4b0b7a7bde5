-- What units declare, and the list of it.
use Rattle.std.proofs.Common.{◌≡◌, ◌<◌, ◌≤◌, ◌+◌, ℕ, zero, suc, List, [], ◌∷◌, ◌++◌, length, take, get_or, Some, slice_get, inl, inr, refl, ap, sym, ◌∙◌, subst, arith, append_assoc, append-nil}
use Rattle.std.proofs.lemmas.List.{length-take-le, take_all, take_more}
use Rattle.vd_heads.specs.declared.table.Space.{Space}
use Rattle.vd_heads.specs.Declaration.{Bytes}
use Rattle.vd_outline.specs.declared.outline.Outline.{Outline}
use Rattle.vd_outline.specs.declared.section.Section.{Section}
use Rattle.vd_declared.specs.declared.declared.Declaration.{Declaration}
use Rattle.vd_linkage.specs.Declaration.{Declares, IsBefore}
use Rattle.vd_declared.specs.Listed.{AddsDeclarations, IsOf, SectionsDeclare, UnitsDeclare, declaring, no_sections, no_units, silent, unit}
use Rattle.vd_linkage.proofs.Lists.{some_same, at_front, at_back, in_two}

-- ---- one more section, one more unit

pub zero_add : (n : ℕ) → 0 + n ≡ n
zero_add n = omega arith

add_none : (n : ℕ) → n + 0 ≡ n
add_none n = omega arith

add_more : (i n : ℕ) → i + suc n ≡ suc i + n
add_more i n = omega arith

pub silent_more : (k i : ℕ) (ss : List Section) (s : Section) (ds : List Declaration) → ((space : Space) (name : Bytes) → Declares s space name → ⊥) → SectionsDeclare k i ss ds → SectionsDeclare k i (ss ++ s ∷ []) ds
silent_more k i [] s [] none no_sections = silent none no_sections
silent_more k i [] s (d ∷ ds) none h = elim h [ ]
silent_more k i (t ∷ ss) s ds none (silent h r) = silent h (silent_more k (suc i) ss s ds none r)
silent_more k i (t ∷ ss) s (d ∷ ds) none (declaring h r) = declaring h (silent_more k (suc i) ss s ds none r)

pub declaring_more : (k i : ℕ) (ss : List Section) (s : Section) (ds : List Declaration) (d : Declaration) → IsOf k (i + length ss) s d → SectionsDeclare k i ss ds → SectionsDeclare k i (ss ++ s ∷ []) (ds ++ d ∷ [])
declaring_more k i [] s [] d is no_sections = declaring (subst (λ n. IsOf k n s d) (add_none i) is) no_sections
declaring_more k i [] s (c ∷ ds) d is h = elim h [ ]
declaring_more k i (t ∷ ss) s ds d is (silent h r) = silent h (declaring_more k (suc i) ss s ds d (subst (λ n. IsOf k n s d) (add_more i (length ss)) is) r)
declaring_more k i (t ∷ ss) s (c ∷ ds) d is (declaring h r) = declaring h (declaring_more k (suc i) ss s ds d (subst (λ n. IsOf k n s d) (add_more i (length ss)) is) r)

pub unit_more : (k : ℕ) (os : List Outline) (o : Outline) (es ds : List Declaration) → SectionsDeclare (k + length os) 0 o.sections ds → UnitsDeclare k os es → UnitsDeclare k (os ++ o ∷ []) (es ++ ds)
unit_more k [] o [] ds is no_units = subst (λ x. UnitsDeclare k (o ∷ []) x) (append-nil ds) (unit (subst (λ n. SectionsDeclare n 0 o.sections ds) (add_none k) is) no_units)
unit_more k [] o (e ∷ es) ds is h = elim h [ ]
unit_more k (p ∷ os) o es ds is (unit {ds = cs} {es = bs} h r) =
    subst (λ x. UnitsDeclare k (p ∷ (os ++ o ∷ [])) x) (sym (append_assoc cs bs ds)) (unit h (unit_more (suc k) os o bs ds (subst (λ n. SectionsDeclare n 0 o.sections ds) (add_more k (length os)) is) r))

pub take_step : {X : Type 0} (xs : List X) (i : ℕ) (x : X) → i < length xs → x ≡ get_or xs i x → take i xs ++ x ∷ [] ≡ take (i + 1) xs
take_step xs i x within at = sym (take_more xs i x within ∙ ap (λ y. take i xs ++ y ∷ []) (sym at))

long : {X : Type 0} (xs : List X) (i : ℕ) → i < length xs → i ≡ 0 + length (take i xs)
long xs i within = (let e = length-take-le i xs (omega (arith, within)) in omega (arith, e))

pub adds_none : (k : ℕ) (ds : List Declaration) → AddsDeclarations k [] ds ds
adds_none k ds = record { added = []; are = no_sections; joined = sym (append-nil ds) }

pub adds_silent : (k : ℕ) (ss : List Section) (i : ℕ) (s : Section) (old mid new : List Declaration) → i < length ss → s ≡ get_or ss i s → ((space : Space) (name : Bytes) → Declares s space name → ⊥)
    → AddsDeclarations k (take i ss) old mid → new ≡ mid → AddsDeclarations k (take (i + 1) ss) old new
adds_silent k ss i s old mid new within at none h e =
    record { added = h.added; are = subst (λ xs. SectionsDeclare k 0 xs h.added) (take_step ss i s within at) (silent_more k 0 (take i ss) s h.added none h.are); joined = e ∙ h.joined }

pub adds_declaring : (k : ℕ) (ss : List Section) (i : ℕ) (s : Section) (d : Declaration) (old mid new : List Declaration) → i < length ss → s ≡ get_or ss i s → IsOf k i s d
    → AddsDeclarations k (take i ss) old mid → new ≡ mid ++ d ∷ [] → AddsDeclarations k (take (i + 1) ss) old new
adds_declaring k ss i s d old mid new within at is h e = record {
  added = h.added ++ d ∷ [];
  are = subst (λ xs. SectionsDeclare k 0 xs (h.added ++ d ∷ [])) (take_step ss i s within at) (declaring_more k 0 (take i ss) s h.added d (subst (λ n. IsOf k n s d) (long ss i within) is) h.are);
  joined = e ∙ (ap (λ xs. xs ++ d ∷ []) h.joined ∙ append_assoc old h.added (d ∷ []));
}

pub adds_all : (k : ℕ) (ss : List Section) (i : ℕ) (old new : List Declaration) → length ss ≤ i → AddsDeclarations k (take i ss) old new → AddsDeclarations k ss old new
adds_all k ss i old new past h = subst (λ xs. AddsDeclarations k xs old new) (take_all i ss past) h

pub units_next : (os : List Outline) (i : ℕ) (o : Outline) (sections : List Section) (old new : List Declaration) → i < length os → o ≡ get_or os i o → sections ≡ o.sections → UnitsDeclare 0 (take i os) old → AddsDeclarations i sections old new
    → UnitsDeclare 0 (take (i + 1) os) new
units_next os i o sections old new within at same h a =
    let own : SectionsDeclare (0 + length (take i os)) 0 o.sections a.added = subst (λ n. SectionsDeclare n 0 o.sections a.added) (long os i within) (subst (λ ss. SectionsDeclare i 0 ss a.added) same a.are) in
    subst (λ xs. UnitsDeclare 0 xs new) (take_step os i o within at) (subst (λ ds. UnitsDeclare 0 (take i os ++ o ∷ []) ds) (sym a.joined) (unit_more 0 (take i os) o old a.added own h))

pub units_listed : (os : List Outline) (i : ℕ) (ds : List Declaration) → length os ≤ i → UnitsDeclare 0 (take i os) ds → UnitsDeclare 0 os ds
units_listed os i ds past h = subst (λ xs. UnitsDeclare 0 xs ds) (take_all i os past) h

-- ---- the list has what is declared, in its order

-- a section declares the name, where the first has that number in a unit
pub record InSections (k start : ℕ) (ss : List Section) (s : Space) (name : Bytes) (l i : ℕ) : Type 0 where
  pub of_unit : l ≡ k
  pub at : ℕ
  pub place_is : i ≡ start + at
  pub one : Section
  pub one_at : slice_get ss at ≡ Some one
  pub declares : Declares one s name

-- a unit's does, where the first has that number
pub record InUnits (start : ℕ) (os : List Outline) (s : Space) (name : Bytes) (l i : ℕ) : Type 0 where
  pub at : ℕ
  pub unit_is : l ≡ start + at
  pub outline : Outline
  pub outline_at : slice_get os at ≡ Some outline
  pub one : Section
  pub one_at : slice_get outline.sections i ≡ Some one
  pub declares : Declares one s name

-- the declaration has that place in the list
pub record Has (ds : List Declaration) (s : Space) (name : Bytes) (l i : ℕ) : Type 0 where
  pub place : ℕ
  pub one : Declaration
  pub at : slice_get ds place ≡ Some one
  pub of_space : one.space ≡ s
  pub of_name : one.name.now ≡ name
  pub of_unit : one.unit ≡ l
  pub of_section : one.section ≡ i

section_later : (k i : ℕ) (t : Section) (ss : List Section) (s : Space) (name : Bytes) (l j : ℕ) → InSections k (suc i) ss s name l j → InSections k i (t ∷ ss) s name l j
section_later k i t ss s name l j h = record { of_unit = h.of_unit; at = suc h.at; place_is = h.place_is ∙ sym (add_more i h.at); one = h.one; one_at = h.one_at; declares = h.declares }

section_here : (k i : ℕ) (t : Section) (ss : List Section) (d : Declaration) → IsOf k i t d → InSections k i (t ∷ ss) d.space d.name.now d.unit d.section
section_here k i t ss d h = record { of_unit = h.of_unit; at = 0; place_is = h.of_section ∙ sym (add_none i); one = t; one_at = refl; declares = h.declares }

sections_only : (k i : ℕ) (ss : List Section) (ds : List Declaration) → SectionsDeclare k i ss ds → (n : ℕ) (d : Declaration) → slice_get ds n ≡ Some d → InSections k i ss d.space d.name.now d.unit d.section
sections_only k i [] [] no_sections n d e = absurd (cc)
sections_only k i [] (c ∷ ds) h n d e = elim h [ ]
sections_only k i (t ∷ ss) ds (silent h r) n d e = section_later k i t ss d.space d.name.now d.unit d.section (sections_only k (suc i) ss ds r n d e)
sections_only k i (t ∷ ss) (c ∷ ds) (declaring h r) zero d e = subst (λ x. InSections k i (t ∷ ss) x.space x.name.now x.unit x.section) (some_same c d e) (section_here k i t ss c h)
sections_only k i (t ∷ ss) (c ∷ ds) (declaring h r) (suc n) d e = section_later k i t ss d.space d.name.now d.unit d.section (sections_only k (suc i) ss ds r n d e)

has_later : (c : Declaration) (ds : List Declaration) (s : Space) (name : Bytes) (l j : ℕ) → Has ds s name l j → Has (c ∷ ds) s name l j
has_later c ds s name l j h = record { place = suc h.place; one = h.one; at = h.at; of_space = h.of_space; of_name = h.of_name; of_unit = h.of_unit; of_section = h.of_section }

has_here : (k i : ℕ) (t : Section) (c : Declaration) (ds : List Declaration) (s : Space) (name : Bytes) → IsOf k i t c → Declares t s name → Has (c ∷ ds) s name k (i + 0)
has_here k i t c ds s name h d = record {
  place = 0;
  one = c;
  at = refl;
  of_space = some_same c.space s (sym h.declares.in_space ∙ d.in_space);
  of_name = some_same c.name.now name (sym h.declares.named ∙ d.named);
  of_unit = h.of_unit;
  of_section = h.of_section ∙ sym (add_none i);
}

sections_all : (k i : ℕ) (ss : List Section) (ds : List Declaration) → SectionsDeclare k i ss ds → (n : ℕ) (t : Section) (s : Space) (name : Bytes) → slice_get ss n ≡ Some t → Declares t s name → Has ds s name k (i + n)
sections_all k i [] [] no_sections n t s name e d = absurd (cc)
sections_all k i [] (c ∷ ds) h n t s name e d = elim h [ ]
sections_all k i (u ∷ ss) ds (silent h r) zero t s name e d = absurd (h s name (subst (λ x. Declares x s name) (sym (some_same u t e)) d))
sections_all k i (u ∷ ss) ds (silent h r) (suc n) t s name e d = subst (λ x. Has ds s name k x) (sym (add_more i n)) (sections_all k (suc i) ss ds r n t s name e d)
sections_all k i (u ∷ ss) (c ∷ ds) (declaring h r) zero t s name e d = has_here k i u c ds s name h (subst (λ x. Declares x s name) (sym (some_same u t e)) d)
sections_all k i (u ∷ ss) (c ∷ ds) (declaring h r) (suc n) t s name e d = subst (λ x. Has (c ∷ ds) s name k x) (sym (add_more i n)) (has_later c ds s name k (suc i + n) (sections_all k (suc i) ss ds r n t s name e d))

before_in : (k l m i j : ℕ) → l ≡ k → m ≡ k → i < j → IsBefore l i m j
before_in k l m i j p q h = inr (p ∙ sym q, h)

sections_order : (k i : ℕ) (ss : List Section) (ds : List Declaration) → SectionsDeclare k i ss ds → (m n : ℕ) (d e : Declaration) → m < n → slice_get ds m ≡ Some d → slice_get ds n ≡ Some e → IsBefore d.unit d.section e.unit e.section
sections_order k i [] [] no_sections m n d e lt p q = absurd (cc)
sections_order k i [] (c ∷ ds) h m n d e lt p q = elim h [ ]
sections_order k i (t ∷ ss) ds (silent h r) m n d e lt p q = sections_order k (suc i) ss ds r m n d e lt p q
sections_order k i (t ∷ ss) (c ∷ ds) (declaring h r) m zero d e lt p q = absurd (omega (arith, lt))
sections_order k i (t ∷ ss) (c ∷ ds) (declaring h r) zero (suc n) d e lt p q =
    let same = some_same c d p in
    let later = sections_only k (suc i) ss ds r n e q in
    let at : c.section ≡ i = h.of_section in
    let to : e.section ≡ suc i + later.at = later.place_is in
    before_in k d.unit e.unit d.section e.section (subst (λ x. x.unit ≡ k) same h.of_unit) later.of_unit (subst (λ x. x.section < e.section) same (omega (arith, at, to)))
sections_order k i (t ∷ ss) (c ∷ ds) (declaring h r) (suc m) (suc n) d e lt p q = sections_order k (suc i) ss ds r m n d e (omega (arith, lt)) p q

-- ---- units

unit_later : (k : ℕ) (o : Outline) (os : List Outline) (s : Space) (name : Bytes) (l j : ℕ) → InUnits (suc k) os s name l j → InUnits k (o ∷ os) s name l j
unit_later k o os s name l j h = record { at = suc h.at; unit_is = h.unit_is ∙ sym (add_more k h.at); outline = h.outline; outline_at = h.outline_at; one = h.one; one_at = h.one_at; declares = h.declares }

unit_here : (k : ℕ) (o : Outline) (os : List Outline) (s : Space) (name : Bytes) (l j : ℕ) → InSections k 0 o.sections s name l j → InUnits k (o ∷ os) s name l j
unit_here k o os s name l j h =
    let at : h.at ≡ j = (let p : j ≡ 0 + h.at = h.place_is in omega (arith, p)) in
    record { at = 0; unit_is = h.of_unit ∙ sym (add_none k); outline = o; outline_at = refl; one = h.one; one_at = subst (λ x. slice_get o.sections x ≡ Some h.one) at h.one_at; declares = h.declares }

pub units_only : (k : ℕ) (os : List Outline) (ds : List Declaration) → UnitsDeclare k os ds → (n : ℕ) (d : Declaration) → slice_get ds n ≡ Some d → InUnits k os d.space d.name.now d.unit d.section
units_only k [] [] no_units n d e = absurd (cc)
units_only k [] (c ∷ ds) h n d e = elim h [ ]
units_only k (o ∷ os) ds (unit {ds = cs} {es = bs} h r) n d e = elim (in_two cs bs n d e) [
  | inl p ↦ unit_here k o os d.space d.name.now d.unit d.section (sections_only k 0 o.sections cs h n d p.1)
  | inr p ↦ unit_later k o os d.space d.name.now d.unit d.section (units_only (suc k) os bs r p.0 d p.2)
]

has_front : (ds es : List Declaration) (s : Space) (name : Bytes) (l j : ℕ) → Has ds s name l j → Has (ds ++ es) s name l j
has_front ds es s name l j h = record { place = h.place; one = h.one; at = at_front ds es h.place h.one h.at; of_space = h.of_space; of_name = h.of_name; of_unit = h.of_unit; of_section = h.of_section }

has_back : (ds es : List Declaration) (s : Space) (name : Bytes) (l j : ℕ) → Has es s name l j → Has (ds ++ es) s name l j
has_back ds es s name l j h = record { place = length ds + h.place; one = h.one; at = at_back ds es h.place ∙ h.at; of_space = h.of_space; of_name = h.of_name; of_unit = h.of_unit; of_section = h.of_section }

pub units_all : (k : ℕ) (os : List Outline) (ds : List Declaration) → UnitsDeclare k os ds → (n i : ℕ) (o : Outline) (t : Section) (s : Space) (name : Bytes) → slice_get os n ≡ Some o → slice_get o.sections i ≡ Some t → Declares t s name
    → Has ds s name (k + n) i
units_all k [] [] no_units n i o t s name p q d = absurd (cc)
units_all k [] (c ∷ ds) h n i o t s name p q d = elim h [ ]
units_all k (u ∷ os) ds (unit {ds = cs} {es = bs} h r) zero i o t s name p q d =
    subst (λ x. Has (cs ++ bs) s name x i) (sym (add_none k))
    (has_front cs bs s name k i (subst (λ x. Has cs s name k x) (zero_add i) (sections_all k 0 u.sections cs h i t s name (subst (λ x. slice_get x.sections i ≡ Some t) (sym (some_same u o p)) q) d)))
units_all k (u ∷ os) ds (unit {ds = cs} {es = bs} h r) (suc n) i o t s name p q d =
    subst (λ x. Has (cs ++ bs) s name x i) (sym (add_more k n)) (has_back cs bs s name (suc k + n) i (units_all (suc k) os bs r n i o t s name p q d))

pub units_order : (k : ℕ) (os : List Outline) (ds : List Declaration) → UnitsDeclare k os ds → (m n : ℕ) (d e : Declaration) → m < n → slice_get ds m ≡ Some d → slice_get ds n ≡ Some e → IsBefore d.unit d.section e.unit e.section
units_order k [] [] no_units m n d e lt p q = absurd (cc)
units_order k [] (c ∷ ds) h m n d e lt p q = elim h [ ]
units_order k (o ∷ os) ds (unit {ds = cs} {es = bs} h r) m n d e lt p q = elim (in_two cs bs m d p) [
  | inl a ↦ elim (in_two cs bs n e q) [
    | inl b ↦ sections_order k 0 o.sections cs h m n d e lt a.1 b.1
    | inr b ↦
        let x : d.unit ≡ k = (sections_only k 0 o.sections cs h m d a.1).of_unit in
        let y = units_only (suc k) os bs r b.0 e b.2 in
        let z : e.unit ≡ suc k + y.at = y.unit_is in
        inl (omega (arith, x, z))
  ]
  | inr a ↦ elim (in_two cs bs n e q) [
    | inl b ↦ absurd (let x : m ≡ length cs + a.0 = a.1 in omega (arith, lt, b.0, x))
    | inr b ↦ units_order (suc k) os bs r a.0 b.0 d e (let x : m ≡ length cs + a.0 = a.1 in let y : n ≡ length cs + b.0 = b.1 in omega (arith, lt, x, y)) a.2 b.2
  ]
]
