-- How the closure of a part is found.
use Rattle.std.proofs.Common.{◌≡◌, ◌↔◌, ℕ, zero, suc, ◌+◌, ◌<◌, ◌≤◌, Bool, true, false, ◌||◌, List, [], ◌∷◌, length, get_or, take, Option, None, Some, ◌⊎◌, inl, inr, refl, ap, sym, ◌∙◌, subst, arith}
use Rattle.std.specs.List.{slice_get}
use Rattle.std.specs.Option.{option_and_then}
use Rattle.std.specs.Str.{bytes_eq}
use Rattle.std.proofs.lemmas.Bool.{cases_eq, false≢true}
use Rattle.std.proofs.lemmas.List.Folds.{list_any_more}
use Rattle.std.proofs.lemmas.List.Quantifiers.{position-Some}
use Rattle.std.proofs.lemmas.List.Sums.{count_by-le-length}
use Rattle.std.proofs.lemmas.Option.{slice_get_within, slice_get_read}
use Rattle.std.proofs.lemmas.Slice.Eq.{bytes_eq-Decides}
use Rattle.vd_heads.specs.declared.content.Content.{Content}
use Rattle.vd_heads.specs.declared.content.HeadSection.{HeadSection}
use Rattle.vd_heads.specs.declared.content.Mention.{Mention}
use Rattle.vd_heads.specs.declared.content.Part.{Part}
use Rattle.vd_heads.specs.declared.part_set.PartSet.{PartSet}
use Rattle.vd_heads.specs.declared.table.Table.{Table}
use Rattle.vd_outline.specs.declared.outline.TextKind.TheVariants as text
use Rattle.vd_heads.specs.Closure.{lists, mentioned, exported, Mentions, Reaches, itself, further, Exports, heads_interface, interface_at}
use Rattle.vd_heads.specs.Declaration.{Bytes}
use Rattle.vd_heads.specs.PartSet.{Adds, IsPartSet, IsMentioned, IsMentionedBelow}
use Rattle.vd_heads.specs.Views.{IsTable, interface_in, is_marked}
use Rattle.vd_heads.proofs.Sets.{adds_none, adds_both, adds_as, marked_within}

-- ---- names

or_true : (a b : Bool) → (a || b) ≡ true → (a ≡ true) ⊎ (b ≡ true)
or_true true b e = inl refl
or_true false b e = inr e

or_left : (a b : Bool) → a ≡ true → (a || b) ≡ true
or_left true b e = refl
or_left false b e = cc

or_right : (a b : Bool) → b ≡ true → (a || b) ≡ true
or_right true b e = refl
or_right false b e = e

pub mentioned_none : (t : Table) (ms : List Mention) (s : PartSet) → IsPartSet s → Adds (IsMentioned t (take 0 ms)) s s
mentioned_none t ms s is = adds_none _ s is (λ k within m. no m.1) where
  no : {A : Type 0} → false ≡ true → A
  no e = cc

pub mentioned_more : (t : Table) (ms : List Mention) (i : ℕ) (m : Mention) (s u v : PartSet) → i < length ms → m ≡ get_or ms i m
    → Adds (IsMentioned t (take i ms)) s u → Adds (λ k. interface_in t m.name ≡ Some k) u v → Adds (IsMentioned t (take (i + 1) ms)) s v
mentioned_more t ms i m s u v within at before now =
    adds_both (IsMentioned t (take i ms)) (λ k. interface_in t m.name ≡ Some k) (IsMentioned t (take (i + 1) ms)) s u v before now
    (λ k r. elim (or_true (lists r.0 (take i ms)) (bytes_eq (get_or ms i m).name r.0) (sym (more r.0) ∙ r.1)) [
      | inl old ↦ inl (r.0, old, r.2)
      | inr new ↦ inr (ap (interface_in t) ((bytes_eq-Decides m.name r.0).0 (ap (λ x. bytes_eq x.name r.0) at ∙ new)) ∙ r.2)
    ])
    (λ k p. (p.0, more p.0 ∙ or_left _ _ p.1, p.2))
    (λ k q. (m.name, more m.name ∙ or_right (lists m.name (take i ms)) _ (ap (λ x. bytes_eq x.name m.name) (sym at) ∙ (bytes_eq-Decides m.name m.name).1 refl), q)) where
      more : (name : Bytes) → lists name (take (i + 1) ms) ≡ (lists name (take i ms) || bytes_eq (get_or ms i m).name name)
      more name = list_any_more (λ x. bytes_eq x.name name) ms i m within

-- ---- sections

pub below_none : (t : Table) (taken : Content → List Mention) (hs : List HeadSection) (s : PartSet) → IsPartSet s → Adds (IsMentionedBelow t taken hs 0) s s
below_none t taken hs s is = adds_none _ s is (λ k within m. absurd (let h = m.2 in omega (arith, h)))

pub below_more : (t : Table) (taken : Content → List Mention) (hs : List HeadSection) (i : ℕ) (h : HeadSection) (ms : List Mention) (s u v : PartSet) → i < length hs → h ≡ get_or hs i h
    → ms ≡ taken h.content → Adds (IsMentionedBelow t taken hs i) s u → Adds (IsMentioned t ms) u v → Adds (IsMentionedBelow t taken hs (i + 1)) s v
below_more t taken hs i h ms s u v within at taken_is before now =
    adds_both (IsMentionedBelow t taken hs i) (IsMentioned t (taken h.content)) (IsMentionedBelow t taken hs (i + 1)) s u v before (let P : List Mention → Type 0 = λ x. Adds (IsMentioned t x) u v in subst P taken_is now)
    (λ k r. split k r.0 r.1 r.2 r.3 r.4)
    (λ k p. (p.0, p.1, (let b = p.2 in omega (arith, b)), p.3, p.4))
    (λ k q. (i, h, omega arith, here, q)) where
      here : slice_get hs i ≡ Some h
      here = slice_get_read hs (length hs) i h refl within at

      some_same : {x y : HeadSection} → Some x ≡ Some y → x ≡ y
      some_same e = cc

      split : (k j : ℕ) (x : HeadSection) → j < i + 1 → slice_get hs j ≡ Some x → IsMentioned t (taken x.content) k → IsMentionedBelow t taken hs i k ⊎ IsMentioned t (taken h.content) k
      split k j x below stands m = elim (cases_eq j i) [
        | inl same ↦ inr (let P : HeadSection → Type 0 = λ y. IsMentioned t (taken y.content) k in subst P (some_same (sym stands ∙ (ap (slice_get hs) same ∙ here))) m)
        | inr other ↦ inl (j, x, omega arith, stands, m)
      ]

-- ---- parts

pub mentions_of : (parts : List Part) (t : Table) (number : ℕ) (part : Part) → IsTable parts t → slice_get parts number ≡ Some part → (hs : List HeadSection) → hs ≡ part.sections → (s u : PartSet)
    → Adds (IsMentionedBelow t mentioned hs (length hs)) s u → Adds (Mentions parts number) s u
mentions_of parts t number part is stands hs own s u adds =
    let P : List HeadSection → Type 0 = λ xs. Adds (IsMentionedBelow t mentioned xs (length xs)) s u in
    adds_as (IsMentionedBelow t mentioned part.sections (length part.sections)) (Mentions parts number) s u
    (λ k m. record { number = m.0; section = m.1; name = m.4.0; stands = ap (option_and_then (λ p. slice_get p.sections m.0)) stands ∙ m.3; mentioned = m.4.1; is = sym (is.interfaces m.4.0) ∙ m.4.2 })
    (λ k m. let at : slice_get part.sections m.number ≡ Some m.section = ap (option_and_then (λ p. slice_get p.sections m.number)) (sym stands) ∙ m.stands in
    (m.number, m.section, slice_get_within part.sections m.number m.section at, at, (m.name, m.mentioned, is.interfaces m.name ∙ m.is)))
    (subst P own adds)

pub mentions_none : (parts : List Part) (number : ℕ) → slice_get parts number ≡ None → (s : PartSet) → IsPartSet s → Adds (Mentions parts number) s s
mentions_none parts number stands s is = adds_none _ s is (λ k within m. no (ap (option_and_then (λ p. slice_get p.sections m.number)) (sym stands) ∙ m.stands)) where
  no : {A : Type 0} {h : HeadSection} → None ≡ Some h → A
  no e = cc

pub mentions_within : (parts : List Part) (k n : ℕ) → Mentions parts k n → k < length parts
mentions_within parts k n m = go (slice_get parts k) refl m.stands where
  go : (o : Option Part) → slice_get parts k ≡ o → option_and_then (λ p. slice_get p.sections m.number) o ≡ Some m.section → k < length parts
  go None e h = cc
  go (Some p) e h = slice_get_within parts k p e

mentions_below : (parts : List Part) (k n : ℕ) → Mentions parts k n → n < length parts
mentions_below parts k n m = go parts m.is where
  go : (ps : List Part) → interface_at ps m.name ≡ Some n → n < length ps
  go [] e = cc
  go (p ∷ ps) e = (position-Some (λ q. heads_interface m.name q.head) (p ∷ ps) n p e).0

-- ---- what a unit exports

pub exports_as : (parts : List Part) (t : Table) (number : ℕ) (part : Part) → IsTable parts t → slice_get parts number ≡ Some part → ((name : Bytes) × (part.head ≡ Some (text.Unit, name))) → (hs : List HeadSection) → hs ≡ part.sections → (s u : PartSet)
    → Adds (IsMentionedBelow t exported hs (length hs)) s u → Adds (Exports parts number) s u
exports_as parts t number part is stands unit hs own s u adds =
    let P : List HeadSection → Type 0 = λ xs. Adds (IsMentionedBelow t exported xs (length xs)) s u in
    adds_as (IsMentionedBelow t exported part.sections (length part.sections)) (Exports parts number) s u
    (λ k m. record {
      number = m.0;
      section = m.1;
      name = m.4.0;
      unit = record { part = part; name = unit.0; stands = stands; headed = unit.1 };
      stands = ap (option_and_then (λ p. slice_get p.sections m.0)) stands ∙ m.3;
      exported = m.4.1;
      is = sym (is.interfaces m.4.0) ∙ m.4.2;
    })
    (λ k m. let at : slice_get part.sections m.number ≡ Some m.section = ap (option_and_then (λ p. slice_get p.sections m.number)) (sym stands) ∙ m.stands in
    (m.number, m.section, slice_get_within part.sections m.number m.section at, at, (m.name, m.exported, is.interfaces m.name ∙ m.is)))
    (subst P own adds)

pub exports_nothing : (parts : List Part) (number : ℕ) (part : Part) → slice_get parts number ≡ Some part → (((name : Bytes) × (part.head ≡ Some (text.Unit, name))) → ⊥) → (s : PartSet) → IsPartSet s → Adds (Exports parts number) s s
exports_nothing parts number part stands unless s is = adds_none _ s is (λ k within m. absurd (unless (m.unit.name, ap (λ p. p.head) (same m.unit.part m.unit.stands) ∙ m.unit.headed))) where
  same : (q : Part) → slice_get parts number ≡ Some q → part ≡ q
  same q e = let h = stands in cc

pub exports_none : (parts : List Part) (number : ℕ) → slice_get parts number ≡ None → (s : PartSet) → IsPartSet s → Adds (Exports parts number) s s
exports_none parts number stands s is = adds_none _ s is (λ k within m. no m.unit.part m.unit.stands) where
  no : {A : Type 0} (q : Part) → slice_get parts number ≡ Some q → A
  no q e = let h = stands in cc

exports_below : (parts : List Part) (k n : ℕ) → Exports parts k n → n < length parts
exports_below parts k n m = go parts m.is where
  go : (ps : List Part) → interface_at ps m.name ≡ Some n → n < length ps
  go [] e = cc
  go (p ∷ ps) e = (position-Some (λ q. heads_interface m.name q.head) (p ∷ ps) n p e).0

pub exports_marked : (parts : List Part) (of : ℕ) (s u : PartSet) → length s.marks.items ≡ length parts → ((k : ℕ) → is_marked s.marks.items k ≡ false) → Adds (Exports parts of) s u
    → (n : ℕ) → (is_marked u.marks.items n ≡ true) ↔ Exports parts of n
exports_marked parts of s u long none adds n = (
  λ h. elim (adds.only n h) [ inl old ↦ absurd (false≢true (sym (none n) ∙ old)) | inr e ↦ e ],
  λ e. adds.added n (let b = exports_below parts of n e in omega (arith, b, long)) e,
)

-- ---- the closure

-- The set of what is found, when the mentions of its first n members are followed.
pub record Found (parts : List Part) (from n : ℕ) (s : PartSet) : Type 0 where
  pub is_set : IsPartSet s
  pub long : length s.marks.items ≡ length parts
  pub begun : from < length parts → is_marked s.marks.items from ≡ true
  pub sound : (k : ℕ) → is_marked s.marks.items k ≡ true → Reaches parts from k
  pub closed : (j k m : ℕ) → j < n → slice_get s.members.items j ≡ Some k → Mentions parts k m → is_marked s.marks.items m ≡ true

abbrev pub Followed : List Part → PartSet → ℕ → ℕ → Type 0
Followed parts s j m = (k : ℕ) × (slice_get s.members.items j ≡ Some k) × Mentions parts k m

pub found_begun : (parts : List Part) (from : ℕ) (s t : PartSet) → length s.marks.items ≡ length parts → ((k : ℕ) → is_marked s.marks.items k ≡ false) → Adds (λ k. k ≡ from) s t → Found parts from 0 t
found_begun parts from s t long none adds = record {
  is_set = adds.is_set;
  long = adds.long ∙ long;
  begun = λ within. adds.added from (omega (arith, long)) refl;
  sound = λ k h. elim (adds.only k h) [ inl old ↦ absurd (false≢true (sym (none k) ∙ old)) | inr e ↦ (let P : ℕ → Type 0 = λ x. Reaches parts from x in subst P (sym e) itself) ];
  closed = λ j k m below. absurd (omega (arith, below));
}

pub found_more : (parts : List Part) (from n : ℕ) (s t : PartSet) → Found parts from n s → Adds (Followed parts s n) s t → Found parts from (n + 1) t
found_more parts from n s t f adds = record {
  is_set = adds.is_set;
  long = adds.long ∙ f.long;
  begun = λ within. adds.kept from (f.begun within);
  sound = λ k h. elim (adds.only k h) [ inl was ↦ f.sound k was | inr e ↦ further (f.sound e.0 (f.is_set.marked n e.0 e.1)) e.2 ];
  closed = λ j k m below at mentions. go j k m below at mentions (slice_get s.members.items j) refl;
} where
  here : (k m : ℕ) → slice_get s.members.items n ≡ Some k → Mentions parts k m → is_marked t.marks.items m ≡ true
  here k m at mentions = adds.added m (let b = mentions_below parts k m mentions in let l = f.long in omega (arith, b, l)) (k, at, mentions)

  old : (j k m : ℕ) → j < n + 1 → slice_get s.members.items j ≡ Some k → Mentions parts k m → is_marked t.marks.items m ≡ true
  old j k m below at mentions = elim (cases_eq j n) [
    | inl same ↦ here k m (ap (slice_get s.members.items) (sym same) ∙ at) mentions
    | inr other ↦ adds.kept m (f.closed j k m (omega arith) at mentions)
  ]

  same_some : (a b : ℕ) → Some a ≡ Some b → a ≡ b
  same_some a b e = cc

  past : (xs : List ℕ) (j : ℕ) → slice_get xs j ≡ None → length xs ≤ j
  past [] j e = omega arith
  past (x ∷ xs) zero e = cc
  past (x ∷ xs) (suc j) e = let h = past xs j e in omega arith

  -- nothing is followed behind the last member
  behind : (j : ℕ) → j < n + 1 → slice_get s.members.items j ≡ None → (m : ℕ) → Followed parts s n m → ⊥
  behind j below e m w = let p = past s.members.items j e in let q = slice_get_within s.members.items n w.0 w.1 in omega (arith, p, q)

  go : (j k m : ℕ) → j < n + 1 → slice_get t.members.items j ≡ Some k → Mentions parts k m → (o : Option ℕ) → slice_get s.members.items j ≡ o → is_marked t.marks.items m ≡ true
  go j k m below at mentions (Some l) e = old j k m below (e ∙ (sym (adds.order j l e) ∙ at)) mentions
  go j k m below at mentions None e =
      let there : is_marked s.marks.items k ≡ true = elim (adds.only k (adds.is_set.marked j k at)) [ inl was ↦ was | inr w ↦ absurd (behind j below e k w) ] in
      let l = f.is_set.listed k there in
      let p = past s.members.items j e in
      let q = slice_get_within s.members.items l.0 k l.1 in
      old l.0 k m (omega (arith, p, q)) l.1 mentions

reached_marked : (parts : List Part) (from n : ℕ) (s : PartSet) → length parts ≤ n → Found parts from n s → (k : ℕ) → Reaches parts from k → k < length parts → is_marked s.marks.items k ≡ true
reached_marked parts from n s all f k itself within = f.begun within
reached_marked parts from n s all f k (further {m = m} r mentions) within =
    let l = f.is_set.listed m (reached_marked parts from n s all f m r (mentions_within parts m k mentions)) in
    let q = slice_get_within s.members.items l.0 m l.1 in
    let c = f.is_set.counted in
    let b = count_by-le-length (λ x. x) s.marks.items in
    let g = f.long in
    f.closed l.0 m k (omega (arith, q, c, b, g)) l.1 mentions

pub found_all : (parts : List Part) (from n : ℕ) (s : PartSet) → length parts ≤ n → Found parts from n s → (k : ℕ) → (is_marked s.marks.items k ≡ true) ↔ ((k < length parts) × Reaches parts from k)
found_all parts from n s all f k = (
  λ h. ((let w = marked_within s.marks.items k h in let l = f.long in omega (arith, w, l)), f.sound k h),
  λ r. reached_marked parts from n s all f k r.1 r.0,
)
