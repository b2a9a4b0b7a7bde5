-- Which units declare a name: what is kept of it says whether two do.
use Rattle.std.proofs.Common.{◌≡◌, ◌≢◌, ◌↔◌, ◌⊎◌, ◌<◌, ◌≤◌, ◌+◌, ℕ, zero, suc, ◌==◌, Bool, true, false, IsTrue, ◌&&◌, cond, List, [], ◌∷◌, ◌++◌, length, get_or, Option, None, Some, slice_get, inl, inr, refl, ap, sym, ◌∙◌, subst, arith}
use Rattle.std.proofs.lemmas.Bool.{cases_eq, cases_lt}
use Rattle.std.proofs.lemmas.Option.{slice_get_read, slice_get_within}
use Rattle.std.proofs.lemmas.Bool.Decides.{Decides-eqb}
use Rattle.std.proofs.lemmas.Slice.Eq.{bytes_eq-Decides}
use Rattle.std.specs.Str.{bytes_eq}
use Rattle.vd_heads.specs.declared.table.Space.{Space}
use Rattle.vd_heads.specs.declared.table.Space.TheVariants as space
use Rattle.vd_heads.specs.Declaration.{Bytes, same_space}
use Rattle.vd_declared.specs.declared.declared.Declaration.{Declaration}
use Rattle.vd_declared.specs.declared.owners.Owner.{Owner}
use Rattle.vd_declared.specs.declared.owners.Owner.TheVariants.{One, More}
use Rattle.vd_declared.specs.declared.owners.Owners.{Owners}
use Rattle.vd_declared.specs.Listed.{IsFirstShared, IsShared, NoneShared}
use Rattle.vd_declared.specs.Owners.{AreOwners, joined, owner_in, owners_from}
use Rattle.vd_linkage.proofs.Lists.{not_two, some_same}

-- the test that a declaration is of the name
abbrev pub is_of : Space → Bytes → Declaration → Bool
is_of s name d = same_space s d.space && bytes_eq d.name.now name

pub owners_push : (known : Option Owner) (ds : List Declaration) (d : Declaration) (s : Space) (name : Bytes)
    → owners_from known (ds ++ d ∷ []) s name ≡ cond (is_of s name d) (Some (joined (owners_from known ds s name) d.unit)) (owners_from known ds s name)
owners_push known [] d s name = refl
owners_push known (c ∷ ds) d s name = owners_push (cond (is_of s name c) (Some (joined known c.unit)) known) ds d s name

-- ---- the test

space_itself : (s : Space) → same_space s s ≡ true
space_itself space.Struct = refl
space_itself space.Global = refl
space_itself space.Function = refl
space_itself space.Predicate = refl

space_is : (s t : Space) → same_space s t ≡ true → t ≡ s
space_is space.Struct space.Struct e = refl
space_is space.Struct space.Global e = absurd (cc)
space_is space.Struct space.Function e = absurd (cc)
space_is space.Struct space.Predicate e = absurd (cc)
space_is space.Global space.Struct e = absurd (cc)
space_is space.Global space.Global e = refl
space_is space.Global space.Function e = absurd (cc)
space_is space.Global space.Predicate e = absurd (cc)
space_is space.Function space.Struct e = absurd (cc)
space_is space.Function space.Global e = absurd (cc)
space_is space.Function space.Function e = refl
space_is space.Function space.Predicate e = absurd (cc)
space_is space.Predicate space.Struct e = absurd (cc)
space_is space.Predicate space.Global e = absurd (cc)
space_is space.Predicate space.Function e = absurd (cc)
space_is space.Predicate space.Predicate e = refl

both_true : (a b : Bool) → a ≡ true → b ≡ true → a && b ≡ true
both_true true true e f = refl
both_true true false e f = f
both_true false b e f = e

parts_true : (a b : Bool) → a && b ≡ true → (a ≡ true) × (b ≡ true)
parts_true true true h = (refl, refl)
parts_true true false h = absurd (cc)
parts_true false b h = absurd (cc)

pub of_name : (s : Space) (name : Bytes) (d : Declaration) → d.space ≡ s → d.name.now ≡ name → is_of s name d ≡ true
of_name s name d e f = both_true (same_space s d.space) (bytes_eq d.name.now name) (ap (same_space s) e ∙ space_itself s) ((bytes_eq-Decides d.name.now name).1 f)

pub name_of : (s : Space) (name : Bytes) (d : Declaration) → is_of s name d ≡ true → (d.space ≡ s) × (d.name.now ≡ name)
name_of s name d h = let p = parts_true (same_space s d.space) (bytes_eq d.name.now name) h in (space_is s d.space p.0, (bytes_eq-Decides d.name.now name).0 p.1)

-- ---- what is kept of a name

module _ (s : Space) (name : Bytes) where
  -- a declaration of the name stands in the list, by this unit
  pub record Stands (ds : List Declaration) (unit : ℕ) : Type 0 where
    pub place : ℕ
    pub one : Declaration
    pub at : slice_get ds place ≡ Some one
    pub of : is_of s name one ≡ true
    pub by : one.unit ≡ unit

  -- two units declare the name
  pub record StandsTwice (ds : List Declaration) : Type 0 where
    pub unit : ℕ
    pub other : ℕ
    pub apart : unit ≢ other
    pub here : Stands ds unit
    pub there : Stands ds other

  stands_later : (c : Declaration) (ds : List Declaration) (unit : ℕ) → Stands ds unit → Stands (c ∷ ds) unit
  stands_later c ds unit h = record { place = suc h.place; one = h.one; at = h.at; of = h.of; by = h.by }

  stands_here : (c : Declaration) (ds : List Declaration) → is_of s name c ≡ true → Stands (c ∷ ds) c.unit
  stands_here c ds e = record { place = 0; one = c; at = refl; of = e; by = refl }

  -- it stands first or later
  stands_cases : (c : Declaration) (ds : List Declaration) (unit : ℕ) → Stands (c ∷ ds) unit → ((is_of s name c ≡ true) × (c.unit ≡ unit)) ⊎ Stands ds unit
  stands_cases c ds unit h = go h.place h.at where
    go : (n : ℕ) → slice_get (c ∷ ds) n ≡ Some h.one → ((is_of s name c ≡ true) × (c.unit ≡ unit)) ⊎ Stands ds unit
    go zero e = let same = some_same c h.one e in inl (subst (λ d. is_of s name d ≡ true) (sym same) h.of, ap (λ d. d.unit) same ∙ h.by)
    go (suc n) e = inr (record { place = n; one = h.one; at = e; of = h.of; by = h.by })

  pub more_stays : (ds : List Declaration) → owners_from (Some More) ds s name ≡ Some More
  more_stays [] = refl
  more_stays (c ∷ ds) = go (is_of s name c) (more_stays ds) where
    go : (b : Bool) → owners_from (Some More) ds s name ≡ Some More → owners_from (cond b (Some (joined (Some More) c.unit)) (Some More)) ds s name ≡ Some More
    go true h = h
    go false h = h

  nowhere : (n : ℕ) (d : Declaration) → slice_get [] n ≡ Some d → ⊥
  nowhere n d e = absurd (cc)

  -- no other unit than u declares the name in the list, or one does, where this was known before the rest of the list
  abbrev OneOrMore : ℕ → Option Owner → List Declaration → List Declaration → Type 0
  OneOrMore u known rest ds = ((owners_from known rest s name ≡ Some (One u)) × ((unit : ℕ) → Stands ds unit → unit ≡ u)) ⊎ ((owners_from known rest s name ≡ Some More) × ((unit : ℕ) × Stands ds unit × (unit ≢ u)))

  one_joined : (u : ℕ) (c : Declaration) (ds : List Declaration) (b : Bool) → u == c.unit ≡ b → is_of s name c ≡ true → OneOrMore u (Some (One u)) ds ds → OneOrMore u (Some (cond b (One u) More)) ds (c ∷ ds)
  one_joined u c ds true e is h =
      let same : u ≡ c.unit = (Decides-eqb u c.unit).0 e in
      elim h [
        | inl p ↦ inl (p.0, λ unit x. elim (stands_cases c ds unit x) [ inl y ↦ sym (same ∙ y.1) | inr y ↦ p.1 unit y ])
        | inr p ↦ inr (p.0, (p.1.0, stands_later c ds p.1.0 p.1.1, p.1.2))
      ]
  one_joined u c ds false e is h = inr (more_stays ds, (c.unit, stands_here c ds is, λ f. not_two (u == c.unit) ((Decides-eqb u c.unit).1 (sym f)) e))

  one_next : (u : ℕ) (c : Declaration) (ds : List Declaration) (b : Bool) → is_of s name c ≡ b → OneOrMore u (Some (One u)) ds ds → OneOrMore u (cond b (Some (joined (Some (One u)) c.unit)) (Some (One u))) ds (c ∷ ds)
  one_next u c ds true is h = one_joined u c ds (u == c.unit) refl is h
  one_next u c ds false is h = elim h [
    | inl p ↦ inl (p.0, λ unit x. elim (stands_cases c ds unit x) [ inl y ↦ absurd (not_two (is_of s name c) y.0 is) | inr y ↦ p.1 unit y ])
    | inr p ↦ inr (p.0, (p.1.0, stands_later c ds p.1.0 p.1.1, p.1.2))
  ]

  one_cases : (u : ℕ) (ds : List Declaration) → OneOrMore u (Some (One u)) ds ds
  one_cases u [] = inl (refl, λ unit h. absurd (nowhere h.place h.one h.at))
  one_cases u (c ∷ ds) = one_next u c ds (is_of s name c) refl (one_cases u ds)

  -- two units declare the name in the list, or none two do
  abbrev TwiceOrNot : Option Owner → List Declaration → List Declaration → Type 0
  TwiceOrNot known rest ds = ((owners_from known rest s name ≡ Some More) × StandsTwice ds) ⊎ ((owners_from known rest s name ≡ Some More → ⊥) × ((a b : ℕ) → Stands ds a → Stands ds b → a ≡ b))

  one_no_more : (known : Option Owner) (u : ℕ) → known ≡ Some (One u) → known ≡ Some More → ⊥
  one_no_more known u e f = absurd (cc)

  twice_first : (c : Declaration) (ds : List Declaration) → is_of s name c ≡ true → TwiceOrNot (Some (One c.unit)) ds (c ∷ ds)
  twice_first c ds is = elim (one_cases c.unit ds) [
    | inl p ↦
        let each : (unit : ℕ) → Stands (c ∷ ds) unit → unit ≡ c.unit = λ unit h. elim (stands_cases c ds unit h) [ inl x ↦ sym x.1 | inr x ↦ p.1 unit x ] in
        inr (one_no_more (owners_from (Some (One c.unit)) ds s name) c.unit p.0, λ a b x y. each a x ∙ sym (each b y))
    | inr p ↦ inl (p.0, record { unit = p.1.0; other = c.unit; apart = p.1.2; here = stands_later c ds p.1.0 p.1.1; there = stands_here c ds is })
  ]

  twice_later : (c : Declaration) (ds : List Declaration) → is_of s name c ≡ false → TwiceOrNot None ds ds → TwiceOrNot None ds (c ∷ ds)
  twice_later c ds is h = elim h [
    | inl p ↦ inl (p.0, record { unit = p.1.unit; other = p.1.other; apart = p.1.apart; here = stands_later c ds p.1.unit p.1.here; there = stands_later c ds p.1.other p.1.there })
    | inr p ↦
        let later : (unit : ℕ) → Stands (c ∷ ds) unit → Stands ds unit = λ unit x. elim (stands_cases c ds unit x) [ inl y ↦ absurd (not_two (is_of s name c) y.0 is) | inr y ↦ y ] in
        inr (p.0, λ a b x y. p.1 a b (later a x) (later b y))
  ]

  -- two units declare the name exactly where that is kept
  pub twice_cases : (ds : List Declaration) → TwiceOrNot None ds ds
  twice_cases [] = inr (λ e. absurd (cc), λ a b x y. absurd (nowhere x.place x.one x.at))
  twice_cases (c ∷ ds) = go (is_of s name c) refl (twice_cases ds) where
    go : (b : Bool) → is_of s name c ≡ b → TwiceOrNot None ds ds → TwiceOrNot (cond b (Some (joined None c.unit)) None) ds (c ∷ ds)
    go true is h = twice_first c ds is
    go false is h = twice_later c ds is h

-- ---- a declaration whose name another unit declares too

shared_with : (ds : List Declaration) (d : Declaration) (unit : ℕ) → Stands d.space d.name.now ds unit → (d.unit ≡ unit → ⊥) → IsShared ds d
shared_with ds d unit h away =
    let n = name_of d.space d.name.now h.one h.of in
    record { place = h.place; other = h.one; at = h.at; same_space = n.0; same_name = n.1; apart = λ e. away (sym e ∙ h.by) }

pub more_is_shared : (ds : List Declaration) (d : Declaration) → owners_from None ds d.space d.name.now ≡ Some More → IsShared ds d
more_is_shared ds d e = elim (twice_cases d.space d.name.now ds) [
  | inl p ↦
      let t = p.1 in
      elim (cases_eq d.unit t.unit) [
        | inl same ↦ shared_with ds d t.other t.there (λ f. t.apart (sym same ∙ f))
        | inr away ↦ shared_with ds d t.unit t.here away
      ]
  | inr p ↦ absurd (p.0 e)
]

pub shared_is_more : (ds : List Declaration) (n : ℕ) (d : Declaration) → slice_get ds n ≡ Some d → IsShared ds d → owners_from None ds d.space d.name.now ≡ Some More
shared_is_more ds n d at h = elim (twice_cases d.space d.name.now ds) [
  | inl p ↦ p.0
  | inr p ↦
      let own : Stands d.space d.name.now ds d.unit = record { place = n; one = d; at = at; of = of_name d.space d.name.now d refl refl; by = refl } in
      let others : Stands d.space d.name.now ds h.other.unit = record { place = h.place; one = h.other; at = h.at; of = of_name d.space d.name.now h.other h.same_space h.same_name; by = refl } in
      absurd (h.apart (p.1 h.other.unit d.unit others own))
]

-- ---- the first of them

-- none of the first n is shared
abbrev pub NoneBelow : List Declaration → ℕ → Type 0
NoneBelow ds n = (k : ℕ) (d : Declaration) → k < n → slice_get ds k ≡ Some d → IsShared ds d → ⊥

module _ (ds : List Declaration) (o : Owners) (i : ℕ) (d : Declaration) (name : Bytes) (more : Bool) (are : AreOwners ds o) (within : i < length ds) (at : d ≡ get_or ds i d) (same : name ≡ d.name.now)
    (says : IsTrue more ↔ (owner_in o d.space name ≡ Some More)) (before : NoneBelow ds i) where
  own : slice_get ds i ≡ Some d
  own = slice_get_read ds (length ds) i d refl within at

  kept : owner_in o d.space name ≡ owners_from None ds d.space d.name.now
  kept = ap (owner_in o d.space) same ∙ are d.space d.name.now

  pub none_below : more ≡ false → NoneBelow ds (i + 1)
  none_below not k e lt stands shared = elim (cases_lt k i) [
    | inl below ↦ before k e below stands shared
    | inr past ↦
        let place : k ≡ i = omega (arith, lt, past) in
        let one : e ≡ d = some_same e d (sym stands ∙ (ap (slice_get ds) place ∙ own)) in
        not_two more (says.1 (kept ∙ shared_is_more ds i d own (subst (IsShared ds) one shared))) not
  ]

  pub first_here : more ≡ true → IsFirstShared ds d.name.now
  first_here is = record {
    place = i;
    one = d;
    at = own;
    named = refl;
    shared = more_is_shared ds d (sym kept ∙ says.0 is);
    before = before;
  }

pub none_at_all : (ds : List Declaration) (i : ℕ) → length ds ≤ i → NoneBelow ds i → NoneShared ds
none_at_all ds i past before k e stands = before k e (let w = slice_get_within ds k e stands in omega (arith, w, past)) stands
