-- The tables of structs that head parts give tell the same.
use Rattle.std.proofs.Common.{◌≡◌, ℕ, ◌+◌, ◌≤◌, arith, refl, sym, ◌∙◌, ap, ap₂, subst, cond, true, false, true≢false, Bool, List, [], ◌∷◌, Option, Some, None, take, zero, suc}
use Rattle.std.proofs.Math.Path.{fun_ext}
use Rattle.std.specs.Prelude.{bytes_eq, is_some, option_map, option_and_then, unwrap_or, nat_lt, ◌*◌, position, slice_get, All}
use Rattle.std.proofs.lemmas.Grind.{common_steps}
use Rattle.std.specs.Option.{option_or}
use Rattle.std.proofs.lemmas.Option.{same_Some, none-some}
use Rattle.std.proofs.lemmas.List.Elements.{All-head, All-tail}
use Rattle.std.proofs.lemmas.List.Sums.{sum_by-cons}
use Rattle.std.proofs.lemmas.Slice.Eq.{bytes_eq-Decides}
use Rattle.vd_base.specs.declared.ctype.CType.{CType, CType-F, fold-roll-CType, roll-CType, map-CType, ind-CType}
use Rattle.vd_base.specs.declared.ctype.CType.TheOpen as layer
use Rattle.vd_base.specs.declared.ctype.Field.{Field}
use Rattle.vd_base.specs.declared.layout.LayoutFault.TheVariants as fault
use Rattle.vd_base.specs.declared.layout.Slot.{Slot}
use Rattle.vd_base.specs.Layout.{Table, most_cells, bounded, cells_by, cells_of_layer, field_cells, cells_together, struct_cells, fields_of, has_struct, missing, missing_layer, first_missing, first_twice, twice, too_large, refusal, slot_in, slot_of, are_fields}
use Rattle.vd_base.specs.LayoutLaws.{IsMade}
use Rattle.vd_heads.specs.declared.content.Content.TheVariants as content
use Rattle.vd_heads.specs.declared.content.Part.{Part}
use Rattle.vd_heads.specs.declared.table.Space.TheVariants as space
use Rattle.vd_heads.specs.Closure.{Means, IsUnambiguous}
use Rattle.vd_scopes.specs.Scope.{HasStructs}
use Rattle.vd_judge.specs.Alike.{AreAlike}

-- ---- cells of types under two tables

cells_roll : (known : List ℕ → Option ℕ) (x : CType-F CType) → cells_by known (roll-CType x) ≡ cells_of_layer known (map-CType CType (Option ℕ) (cells_by known) x)
unfolding cells_by
cells_roll known x = fold-roll-CType (Option ℕ) (cells_of_layer known) x

missing_roll : (table : Table) (x : CType-F CType) → missing table (roll-CType x) ≡ missing_layer table (map-CType CType (Option (List ℕ)) (missing table) x)
unfolding missing
missing_roll table x = fold-roll-CType (Option (List ℕ)) (missing_layer table) x

both_none : {A : Type 0} (o p : Option A) → option_or o p ≡ None → (o ≡ None) × (p ≡ None)
both_none None p e = (refl, e)
both_none (Some x) p e = absurd (none-some x (sym e))

mapped_none : {A B : Type 0} (f : A → B) (o : Option A) → option_map f o ≡ None → o ≡ None
mapped_none f None e = refl
mapped_none f (Some x) e = absurd (none-some (f x) (sym e))

there : {A : Type 0} (b : Bool) (x : A) → cond b None (Some x) ≡ None → b ≡ true
there true x e = refl
there false x e = absurd (none-some x (sym e))

absent : {A : Type 0} (b : Bool) (x : A) (o : Option A) → cond b (Some x) o ≡ None → (b ≡ false) × (o ≡ None)
absent true x o e = absurd (none-some x (sym e))
absent false x o e = (refl, e)

-- the second table has the structs of the first, with the same cells
record Extends (a b : Table) : Type 0 where
  has : (n : List ℕ) → has_struct a n ≡ true → has_struct b n ≡ true
  same : (n : List ℕ) → has_struct a n ≡ true → struct_cells b n ≡ struct_cells a n

module _ (a b : Table) (x : Extends a b) where
  abbrev Stays : CType → Type 0
  Stays t = missing a t ≡ None → (missing b t ≡ None) × (cells_by (struct_cells b) t ≡ cells_by (struct_cells a) t)

  stays_step : (y : CType-F ((t : CType) × Stays t)) → Stays (roll-CType (map-CType ((t : CType) × Stays t) CType (λ t. t.0) y))
  stays_step layer.Void = λ h. (missing_roll b layer.Void, cells_roll (struct_cells b) layer.Void ∙ sym (cells_roll (struct_cells a) layer.Void))
  stays_step layer.Int = λ h. (missing_roll b layer.Int, cells_roll (struct_cells b) layer.Int ∙ sym (cells_roll (struct_cells a) layer.Int))
  stays_step layer.Unsigned = λ h. (missing_roll b layer.Unsigned, cells_roll (struct_cells b) layer.Unsigned ∙ sym (cells_roll (struct_cells a) layer.Unsigned))
  stays_step layer.Lock = λ h. (missing_roll b layer.Lock, cells_roll (struct_cells b) layer.Lock ∙ sym (cells_roll (struct_cells a) layer.Lock))
  stays_step (layer.Pointer to) = λ h. (missing_roll b (layer.Pointer to.0), cells_roll (struct_cells b) (layer.Pointer to.0) ∙ sym (cells_roll (struct_cells a) (layer.Pointer to.0)))
  stays_step (layer.Struct name) = λ h.
      let has : has_struct a name ≡ true = there (has_struct a name) name (sym (missing_roll a (layer.Struct name)) ∙ h) in (
        missing_roll b (layer.Struct name) ∙ ap (λ t. cond t None (Some name)) (x.has name has),
        cells_roll (struct_cells b) (layer.Struct name) ∙ (x.same name has ∙ sym (cells_roll (struct_cells a) (layer.Struct name))),
      )
  stays_step (layer.Array of n) = λ h.
      let r = of.1 (sym (missing_roll a (layer.Array of.0 n)) ∙ h) in (
        missing_roll b (layer.Array of.0 n) ∙ r.0,
        cells_roll (struct_cells b) (layer.Array of.0 n) ∙ (ap (option_map (λ cells. n * cells)) r.1 ∙ sym (cells_roll (struct_cells a) (layer.Array of.0 n))),
      )

  stays : (t : CType) → Stays t
  stays = ind-CType Stays (λ x y is. subst (λ z. Stays (roll-CType z)) is (stays_step y))

  fields_stay : (fields : List Field) → first_missing a fields ≡ None → (first_missing b fields ≡ None) × (cells_together (struct_cells b) fields ≡ cells_together (struct_cells a) fields)
  fields_stay [] h = (refl, refl)
  fields_stay (f ∷ fields) h =
      let split = both_none (missing a f.typ) (first_missing a fields) h in
      let one = stays f.typ split.0 in
      let rest = fields_stay fields split.1 in (
        ap₂ (λ o p. option_or o p) one.0 rest.0,
        sum_by-cons (field_cells (struct_cells b)) f fields ∙ (ap₂ (λ o m. unwrap_or o 0 + m) one.1 rest.1 ∙ sym (sum_by-cons (field_cells (struct_cells a)) f fields)),
      )

-- ---- tables that were made

bounded_few : (n : ℕ) (s : List ℕ) → cond (nat_lt most_cells n) (Some s) None ≡ None → n ≤ most_cells
bounded_few n s e = grind (arith, common_steps, e)

-- what a struct that is not refused shows
record IsAllowed (table : Table) (s : List ℕ) (fields : List Field) : Type 0 where
  new : has_struct table s ≡ false
  once : first_twice [] fields ≡ None
  known : first_missing table fields ≡ None
  few : cells_together (struct_cells table) fields ≤ most_cells

allowed : (table : Table) (s : List ℕ) (fields : List Field) → refusal table s fields ≡ None → IsAllowed table s fields
allowed table s fields e =
    let first = both_none (option_map (λ n. fault.Twice n) (twice table s fields)) _ e in
    let second = both_none (option_map (λ n. fault.Unknown n) (first_missing table fields)) _ first.1 in
    let own = absent (has_struct table s) s (first_twice [] fields) (mapped_none (λ n. fault.Twice n) (twice table s fields) first.0) in
    record {
      new = own.0;
      once = own.1;
      known = mapped_none (λ n. fault.Unknown n) (first_missing table fields) second.0;
      few = bounded_few (cells_together (struct_cells table) fields) s (mapped_none (λ n. fault.Large n) (too_large table s fields) second.1);
    }

few_bounded : (n : ℕ) (s : List ℕ) → n ≤ most_cells → cond (nat_lt most_cells n) (Some s) None ≡ None
few_bounded n s e = grind (arith, common_steps, e)

not_refused : (table : Table) (s : List ℕ) (fields : List Field) → IsAllowed table s fields → refusal table s fields ≡ None
not_refused table s fields h =
    let t : twice table s fields ≡ None = ap (λ b. cond b (Some s) (first_twice [] fields)) h.new ∙ h.once in
    let l : too_large table s fields ≡ None = few_bounded (cells_together (struct_cells table) fields) s h.few in
    ap (λ o. option_or (option_map (λ n. fault.Twice n) o) (option_or (option_map (λ n. fault.Unknown n) (first_missing table fields)) (option_map (λ n. fault.Large n) (too_large table s fields)))) t
    ∙ (ap (λ o. option_or (option_map (λ n. fault.Unknown n) o) (option_map (λ n. fault.Large n) (too_large table s fields))) h.known ∙ ap (option_map (λ n. fault.Large n)) l)

some_has : (table : Table) (s : List ℕ) (fields : List Field) → fields_of table s ≡ Some fields → has_struct table s ≡ true
some_has table s fields e = ap is_some e

none_has_not : (table : Table) (s : List ℕ) → fields_of table s ≡ None → has_struct table s ≡ false
none_has_not table s e = ap is_some e

has_some : (table : Table) (s : List ℕ) → has_struct table s ≡ true → (fields : List Field) × (fields_of table s ≡ Some fields)
has_some table s h = go (fields_of table s) refl h where
  go : (o : Option (List Field)) → fields_of table s ≡ o → is_some o ≡ true → (fields : List Field) × (fields_of table s ≡ Some fields)
  go None e f = absurd (true≢false (sym f))
  go (Some fields) e f = (fields, e)

has_not_none : (table : Table) (s : List ℕ) → has_struct table s ≡ false → fields_of table s ≡ None
has_not_none table s h = go (fields_of table s) h where
  go : (o : Option (List Field)) → is_some o ≡ false → o ≡ None
  go None f = refl
  go (Some fields) f = absurd (true≢false f)

module _ (older : Table) (d : List ℕ × List Field) (new : has_struct older d.0 ≡ false) where
  other : (n : List ℕ) → has_struct older n ≡ true → bytes_eq d.0 n ≡ false
  other n h = by (bytes_eq d.0 n) refl where
    by : (b : Bool) → bytes_eq d.0 n ≡ b → bytes_eq d.0 n ≡ false
    by true e = absurd (true≢false (sym h ∙ (ap (has_struct older) (sym ((bytes_eq-Decides d.0 n).0 e)) ∙ new)))
    by false e = e

  grows_fields : (n : List ℕ) → has_struct older n ≡ true → fields_of (d ∷ older) n ≡ fields_of older n
  grows_fields n h = ap (λ b. cond b (Some d.1) (fields_of older n)) (other n h)

  grows_cells : (n : List ℕ) → has_struct older n ≡ true → struct_cells (d ∷ older) n ≡ struct_cells older n
  grows_cells n h = ap (λ b. cond b (Some (cells_together (struct_cells older) d.1)) (struct_cells older n)) (other n h)

  grows : Extends older (d ∷ older)
  grows = record { has = λ n h. ap is_some (grows_fields n h) ∙ h; same = grows_cells }

itself : (s : List ℕ) → bytes_eq s s ≡ true
itself s = (bytes_eq-Decides s s).1 refl

-- the fields of a struct lack nothing, and their cells together are the struct's
record IsSummed (table : Table) (s : List ℕ) (fields : List Field) : Type 0 where
  known : first_missing table fields ≡ None
  cells : struct_cells table s ≡ Some (cells_together (struct_cells table) fields)

summed : (table : Table) (s : List ℕ) (fields : List Field) → IsMade table → fields_of table s ≡ Some fields → IsSummed table s fields
summed [] s fields made is = absurd (none-some fields is)
summed (d ∷ older) s fields made is = by (bytes_eq d.0 s) refl (λ e. summed older s fields made.1 e) where
  ok : IsAllowed older d.0 d.1
  ok = allowed older d.0 d.1 made.0

  by : (b : Bool) → bytes_eq d.0 s ≡ b → (fields_of older s ≡ Some fields → IsSummed older s fields) → IsSummed (d ∷ older) s fields
  by true e before =
      let same : d.1 ≡ fields = same_Some d.1 fields (ap (λ b. cond b (Some d.1) (fields_of older s)) (sym e) ∙ is) in
      let r = fields_stay older (d ∷ older) (grows older d ok.new) d.1 ok.known in
      subst (λ fs. IsSummed (d ∷ older) s fs) same
      (record { known = r.0; cells = ap (λ b. cond b (Some (cells_together (struct_cells older) d.1)) (struct_cells older s)) e ∙ ap (λ n. Some n) (sym r.1) })
  by false e before =
      let r0 = before (ap (λ b. cond b (Some d.1) (fields_of older s)) (sym e) ∙ is) in
      let r = fields_stay older (d ∷ older) (grows older d ok.new) fields r0.known in
      record { known = r.0; cells = ap (λ b. cond b (Some (cells_together (struct_cells older) d.1)) (struct_cells older s)) e ∙ (r0.cells ∙ ap (λ n. Some n) (sym r.1)) }

-- ---- one table within another

abbrev Within : Table → Table → Type 0
Within a b = (s : List ℕ) (fields : List Field) → fields_of a s ≡ Some fields → fields_of b s ≡ Some fields

within_older : (d : List ℕ × List Field) (older b : Table) → IsMade (d ∷ older) → Within (d ∷ older) b → Within older b
within_older d older b made w s fields e = w s fields (grows_fields older d (allowed older d.0 d.1 made.0).new s (some_has older s fields e) ∙ e)

module _ (d : List ℕ × List Field) (older b : Table) (made_a : IsMade (d ∷ older)) (made_b : IsMade b) (w : Within (d ∷ older) b) (before : Extends older b) where
  more_cells : (n : List ℕ) (t : Bool) → bytes_eq d.0 n ≡ t → has_struct (d ∷ older) n ≡ true → struct_cells b n ≡ struct_cells (d ∷ older) n
  more_cells n true e h =
      let here : fields_of (d ∷ older) n ≡ Some d.1 = ap (λ t. cond t (Some d.1) (fields_of older n)) e in
      let sums = summed b n d.1 made_b (w n d.1 here) in
      sums.cells ∙ (ap (λ m. Some m) (fields_stay older b before d.1 (allowed older d.0 d.1 made_a.0).known).1 ∙ sym (ap (λ t. cond t (Some (cells_together (struct_cells older) d.1)) (struct_cells older n)) e))
  more_cells n false e h =
      let old : has_struct older n ≡ true = sym (ap (λ t. is_some (cond t (Some d.1) (fields_of older n))) e) ∙ h in
      before.same n old ∙ sym (ap (λ t. cond t (Some (cells_together (struct_cells older) d.1)) (struct_cells older n)) e)

  extends_more : Extends (d ∷ older) b
  extends_more = record {
    has = λ n h. (let f = has_some (d ∷ older) n h in some_has b n f.0 (w n f.0 f.1));
    same = λ n h. more_cells n (bytes_eq d.0 n) refl h;
  }

extends : (a b : Table) → IsMade a → IsMade b → Within a b → Extends a b
extends [] b made_a made_b w = record { has = λ n h. absurd (true≢false (sym h)); same = λ n h. absurd (true≢false (sym h)) }
extends (d ∷ older) b made_a made_b w = extends_more d older b made_a made_b w (extends older b made_a.1 made_b (within_older d older b made_a w))

-- ---- tables of one text

struct_same : (s : List ℕ) (f g : List Field) → content.Struct s f ≡ content.Struct s g → f ≡ g
struct_same s f g e = cc

module _ (parts : List Part) (one : IsUnambiguous parts 0) (b : Table) (h : HasStructs parts b) where
  -- what a table tells is declared
  abbrev TellsDeclared : Table → Type 0
  TellsDeclared a = (s : List ℕ) (fields : List Field) → fields_of a s ≡ Some fields → Means parts 0 space.Struct s (content.Struct s fields)

  module _ (d : List ℕ × List Field) (older : Table) (ok : IsAllowed older d.0 d.1) (filled : are_fields d.1 ≡ true) (means : Means parts 0 space.Struct d.0 (content.Struct d.0 d.1)) (ext : Extends older b) where
    found : (o : Option (List Field)) → fields_of b d.0 ≡ o → fields_of b d.0 ≡ Some d.1
    found (Some fs) f = f ∙ ap (λ x. Some x) (struct_same d.0 fs d.1 (one space.Struct d.0 (content.Struct d.0 fs) (content.Struct d.0 d.1) (h.declared d.0 fs f) means))
    found None f =
        let stay = fields_stay older b ext d.1 ok.known in
        absurd (h.most d.0 d.1 means filled f
        (not_refused b d.0 d.1 (record { new = none_has_not b d.0 f; once = ok.once; known = stay.0; few = subst (λ n. n ≤ most_cells) (sym stay.1) ok.few })))

    within_more : Within older b → Within (d ∷ older) b
    within_more before s fields e = by (bytes_eq d.0 s) refl
      where
        by : (t : Bool) → bytes_eq d.0 s ≡ t → fields_of b s ≡ Some fields
        by true f =
            let same : d.1 ≡ fields = same_Some d.1 fields (sym (ap (λ t. cond t (Some d.1) (fields_of older s)) f) ∙ e) in
            subst (λ n. fields_of b n ≡ Some fields) ((bytes_eq-Decides d.0 s).0 f) (found (fields_of b d.0) refl ∙ ap (λ x. Some x) same)
        by false f = before s fields (sym (ap (λ t. cond t (Some d.1) (fields_of older s)) f) ∙ e)

  within : (a : Table) → IsMade a → All (λ d. are_fields d.1 ≡ true) a → TellsDeclared a → Within a b
  within [] made filled means = λ s fields e. absurd (none-some fields e)
  within (d ∷ older) made filled means =
      let ok = allowed older d.0 d.1 made.0 in
      let before = within older made.1 (All-tail (λ e. are_fields e.1 ≡ true) d older filled) (λ n fs f. means n fs (grows_fields older d ok.new n (some_has older n fs f) ∙ f)) in
      let here : fields_of (d ∷ older) d.0 ≡ Some d.1 = ap (λ t. cond t (Some d.1) (fields_of older d.0)) (itself d.0) in
      within_more d older ok (All-head (λ e. are_fields e.1 ≡ true) d older filled) (means d.0 d.1 here) (extends older b made.1 h.made before) before

-- ---- alike

no_cells : (a : Table) (n : List ℕ) → has_struct a n ≡ false → struct_cells a n ≡ None
no_cells [] n h = refl
no_cells (d ∷ older) n h = by (bytes_eq d.0 n) h (no_cells older n)
  where
    by : (t : Bool) → is_some (cond t (Some d.1) (fields_of older n)) ≡ false → (has_struct older n ≡ false → struct_cells older n ≡ None) → cond t (Some (cells_together (struct_cells older) d.1)) (struct_cells older n) ≡ None
    by true f before = absurd (true≢false f)
    by false f before = before f

no_slot : (a : Table) (n f : List ℕ) → has_struct a n ≡ false → slot_of a n f ≡ None
no_slot [] n f h = refl
no_slot (d ∷ older) n f h = by (bytes_eq d.0 n) h (no_slot older n f)
  where
    by : (t : Bool) → is_some (cond t (Some d.1) (fields_of older n)) ≡ false → (has_struct older n ≡ false → slot_of older n f ≡ None) → cond t (slot_in (struct_cells older) d.1 f) (slot_of older n f) ≡ None
    by true g before = absurd (true≢false g)
    by false g before = before g

front_known : (a : Table) (i : ℕ) (fields : List Field) → first_missing a fields ≡ None → first_missing a (take i fields) ≡ None
front_known a zero fields h = refl
front_known a (suc i) [] h = refl
front_known a (suc i) (f ∷ fields) h =
    let split = both_none (missing a f.typ) (first_missing a fields) h in ap₂ (λ o p. option_or o p) split.0 (front_known a i fields split.1)

abbrev slot_at : ℕ → ℕ → Slot
slot_at n i = record { offset = n; index = i }

slot_stays : (a b : Table) → Extends a b → (fields : List Field) (f : List ℕ) → first_missing a fields ≡ None → slot_in (struct_cells b) fields f ≡ slot_in (struct_cells a) fields f
slot_stays a b x fields f h = go (position (λ g. bytes_eq g.name f) fields) where
  go : (o : Option ℕ) → option_map {U = Slot} (λ i. record { offset = cells_together (struct_cells b) (take i fields); index = i }) o ≡ option_map {U = Slot} (λ i. record { offset = cells_together (struct_cells a) (take i fields); index = i }) o
  go None = refl
  go (Some i) = ap (λ n. Some (slot_at n i)) (fields_stay a b x (take i fields) (front_known a i fields h)).1

-- where a field lies, by the table as it stands
slot_here : (a : Table) (n : List ℕ) (fields : List Field) (f : List ℕ) → IsMade a → fields_of a n ≡ Some fields → slot_of a n f ≡ slot_in (struct_cells a) fields f
slot_here [] n fields f made e = absurd (none-some fields e)
slot_here (d ∷ older) n fields f made e = by (bytes_eq d.0 n) refl (slot_here older n fields f made.1)
  where
    ok : IsAllowed older d.0 d.1
    ok = allowed older d.0 d.1 made.0

    by : (t : Bool) → bytes_eq d.0 n ≡ t → (fields_of older n ≡ Some fields → slot_of older n f ≡ slot_in (struct_cells older) fields f) → slot_of (d ∷ older) n f ≡ slot_in (struct_cells (d ∷ older)) fields f
    by true g before =
        let same : d.1 ≡ fields = same_Some d.1 fields (sym (ap (λ t. cond t (Some d.1) (fields_of older n)) g) ∙ e) in
        ap (λ t. cond t (slot_in (struct_cells older) d.1 f) (slot_of older n f)) g
        ∙ (sym (slot_stays older (d ∷ older) (grows older d ok.new) d.1 f ok.known) ∙ ap (λ fs. slot_in (struct_cells (d ∷ older)) fs f) same)
    by false g before =
        let old : fields_of older n ≡ Some fields = sym (ap (λ t. cond t (Some d.1) (fields_of older n)) g) ∙ e in
        ap (λ t. cond t (slot_in (struct_cells older) d.1 f) (slot_of older n f)) g
        ∙ (before old ∙ sym (slot_stays older (d ∷ older) (grows older d ok.new) fields f (summed older n fields made.1 old).known))

module _ (a b : Table) (made_a : IsMade a) (made_b : IsMade b) (there_b : Within a b) (there_a : Within b a) where
  lacks : (n : List ℕ) → has_struct a n ≡ false → has_struct b n ≡ false
  lacks n h = go (has_struct b n) refl where
    go : (t : Bool) → has_struct b n ≡ t → has_struct b n ≡ false
    go true e = (let f = has_some b n e in absurd (true≢false (sym (some_has a n f.0 (there_a n f.0 f.1)) ∙ h)))
    go false e = e

  cells_same : (n : List ℕ) → struct_cells a n ≡ struct_cells b n
  cells_same n = go (has_struct a n) refl where
    go : (t : Bool) → has_struct a n ≡ t → struct_cells a n ≡ struct_cells b n
    go true e = sym ((extends a b made_a made_b there_b).same n e)
    go false e = no_cells a n e ∙ sym (no_cells b n (lacks n e))

  fields_same : (n : List ℕ) → fields_of a n ≡ fields_of b n
  fields_same n = go (has_struct a n) refl where
    go : (t : Bool) → has_struct a n ≡ t → fields_of a n ≡ fields_of b n
    go true e = (let f = has_some a n e in f.1 ∙ sym (there_b n f.0 f.1))
    go false e = has_not_none a n e ∙ sym (has_not_none b n (lacks n e))

  slots_same : (n f : List ℕ) → slot_of a n f ≡ slot_of b n f
  slots_same n f = go (has_struct a n) refl where
    go : (t : Bool) → has_struct a n ≡ t → slot_of a n f ≡ slot_of b n f
    go true e =
        let fs = has_some a n e in
        slot_here a n fs.0 f made_a fs.1 ∙ (ap (λ known. slot_in known fs.0 f) (fun_ext cells_same) ∙ sym (slot_here b n fs.0 f made_b (there_b n fs.0 fs.1)))
    go false e = no_slot a n f e ∙ sym (no_slot b n f (lacks n e))

  alike : AreAlike a b
  alike = record {
    sizes = λ t. ap (λ known. option_and_then bounded (cells_by known t)) (fun_ext cells_same);
    slots = slots_same;
    types = λ n index. ap (λ o. option_and_then (λ fields. option_map (λ f. f.typ) (slice_get fields index)) o) (fields_same n);
  }

pub structs_alike : (parts : List Part) → IsUnambiguous parts 0 → (a b : Table) → HasStructs parts a → HasStructs parts b → AreAlike a b
structs_alike parts one a b h g =
    alike a b h.made g.made (within parts one b g a h.made h.filled h.declared) (within parts one a h b g.made g.filled g.declared)
