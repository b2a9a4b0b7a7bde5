-- Where names are declared: the places that the parts give, and what stands there.
use Rattle.std.proofs.Common.{◌≡◌, ℕ, zero, suc, ◌+◌, ◌<◌, ◌≤◌, Bool, true, false, cond, List, [], ◌∷◌, ◌++◌, length, get_or, drop, None, Some, ◌⊎◌, inl, inr, refl, ap, sym, ◌∙◌, arith}
use Rattle.std.specs.List.{slice_get, find}
use Rattle.std.proofs.lemmas.List.{drop_more, drop_all}
use Rattle.vd_heads.specs.declared.content.Content.{Content}
use Rattle.vd_heads.specs.declared.content.HeadSection.{HeadSection}
use Rattle.vd_heads.specs.declared.content.Part.{Part}
use Rattle.vd_heads.specs.declared.table.Space.{Space}
use Rattle.vd_heads.specs.declared.table.Spot.{Spot}
use Rattle.vd_heads.specs.Declaration.{Bytes, IsDeclared, section_at, declares}
use Rattle.vd_heads.specs.Views.{spots_in_part, spots_from, spots_of}
use Rattle.vd_heads.proofs.Sets.{slice_get-front}

-- ---- lists

slice_get-append : {A : Type 0} (xs ys : List A) (j : ℕ) (x : A) → slice_get (xs ++ ys) j ≡ Some x → (slice_get xs j ≡ Some x) ⊎ ((m : ℕ) × (j ≡ length xs + m) × (slice_get ys m ≡ Some x))
slice_get-append [] ys j x e = inr (j, omega arith, e)
slice_get-append (y ∷ xs) ys zero x e = inl e
slice_get-append (y ∷ xs) ys (suc j) x e = elim (slice_get-append xs ys j x e) [ inl h ↦ inl h | inr h ↦ inr (h.0, (let k = h.1 in omega (arith, k)), h.2) ]

slice_get-behind : {A : Type 0} (xs ys : List A) (m : ℕ) (x : A) → slice_get ys m ≡ Some x → (j : ℕ) × (slice_get (xs ++ ys) j ≡ Some x)
slice_get-behind [] ys m x e = (m, e)
slice_get-behind (y ∷ xs) ys m x e = let h = slice_get-behind xs ys m x e in (suc h.0, h.1)

slice_get-short : {A : Type 0} (xs : List A) (j : ℕ) (x : A) → slice_get xs j ≡ Some x → j < length xs
slice_get-short [] j x e = cc
slice_get-short (y ∷ xs) zero x e = omega arith
slice_get-short (y ∷ xs) (suc j) x e = let h = slice_get-short xs j x e in omega arith

-- ---- the first place that passes a test

pub find_next : (p : Spot → Bool) (xs : List Spot) (i : ℕ) (x : Spot) → i < length xs → x ≡ get_or xs i x → p x ≡ false → find p (drop (i + 1) xs) ≡ find p (drop i xs)
find_next p xs i x within at fails = sym (ap (find p) (drop_more xs i x within) ∙ ap (λ b. cond b (Some (get_or xs i x)) (find p (drop (i + 1) xs))) (ap p (sym at) ∙ fails))

pub find_here : (p : Spot → Bool) (xs : List Spot) (i : ℕ) (x : Spot) → i < length xs → x ≡ get_or xs i x → p x ≡ true → Some x ≡ find p (drop i xs)
find_here p xs i x within at passes = sym (ap (find p) (drop_more xs i x within) ∙ (ap (λ b. cond b (Some (get_or xs i x)) (find p (drop (i + 1) xs))) (ap p (sym at) ∙ passes) ∙ ap Some (sym at)))

pub find_past : (p : Spot → Bool) (xs : List Spot) (i : ℕ) → length xs ≤ i → None ≡ find p (drop i xs)
find_past p xs i past = sym (ap (find p) (drop_all i xs past))

pub found_at : (p : Spot → Bool) (xs : List Spot) (x : Spot) → find p xs ≡ Some x → (j : ℕ) × (slice_get xs j ≡ Some x) × (p x ≡ true) × ((m : ℕ) (y : Spot) → m < j → slice_get xs m ≡ Some y → p y ≡ false)
found_at p [] x e = cc
found_at p (y ∷ xs) x e = go (found_at p xs x) (p y) refl e where
  same : {a b : Spot} → Some a ≡ Some b → a ≡ b
  same f = cc

  go : (find p xs ≡ Some x → (j : ℕ) × (slice_get xs j ≡ Some x) × (p x ≡ true) × ((m : ℕ) (z : Spot) → m < j → slice_get xs m ≡ Some z → p z ≡ false))
      → (b : Bool) → p y ≡ b → cond b (Some y) (find p xs) ≡ Some x → (j : ℕ) × (slice_get (y ∷ xs) j ≡ Some x) × (p x ≡ true) × ((m : ℕ) (z : Spot) → m < j → slice_get (y ∷ xs) m ≡ Some z → p z ≡ false)
  go rest true t f = (0, f, ap p (sym (same f)) ∙ t, λ m z below at. absurd (omega (arith, below)))
  go rest false t f = let r = rest f in (suc r.0, r.1, r.2, before r.0 r.3) where
    before : (j : ℕ) → ((m : ℕ) (z : Spot) → m < j → slice_get xs m ≡ Some z → p z ≡ false) → (m : ℕ) (z : Spot) → m < suc j → slice_get (y ∷ xs) m ≡ Some z → p z ≡ false
    before j h zero z below at = ap p (sym (same at)) ∙ t
    before j h (suc m) z below at = h m z (omega (arith, below)) at

pub found_none : (p : Spot → Bool) (xs : List Spot) → find p xs ≡ None → (m : ℕ) (y : Spot) → slice_get xs m ≡ Some y → p y ≡ false
found_none p [] e m y at = cc
found_none p (x ∷ xs) e m y at = go (found_none p xs) (p x) refl e m at where
  same : {a b : Spot} → Some a ≡ Some b → a ≡ b
  same f = cc

  go : (find p xs ≡ None → (m : ℕ) (y : Spot) → slice_get xs m ≡ Some y → p y ≡ false) → (b : Bool) → p x ≡ b → cond b (Some x) (find p xs) ≡ None → (m : ℕ) → slice_get (x ∷ xs) m ≡ Some y → p y ≡ false
  go rest true t f m g = cc
  go rest false t f zero g = ap p (sym (same g)) ∙ t
  go rest false t f (suc m) g = rest f m y g

-- ---- sections of one part

-- A section behind the first i of a part declares the name, and this is its place.
record StandsIn (s : Space) (name : Bytes) (k i : ℕ) (hs : List HeadSection) (x : Spot) : Type 0 where
  number : ℕ
  section : HeadSection
  part_is : x.part ≡ k
  section_is : x.section ≡ i + number
  stands : slice_get hs number ≡ Some section
  named : declares s name section.content ≡ true

stands_later : (s : Space) (name : Bytes) (k i : ℕ) (h : HeadSection) (hs : List HeadSection) (x : Spot) → StandsIn s name k (suc i) hs x → StandsIn s name k i (h ∷ hs) x
stands_later s name k i h hs x r = record { number = suc r.number; section = r.section; part_is = r.part_is; section_is = (let e = r.section_is in omega (arith, e)); stands = r.stands; named = r.named }

in_part : (s : Space) (name : Bytes) (k i : ℕ) (hs : List HeadSection) (j : ℕ) (x : Spot) → slice_get (spots_in_part s name k i hs) j ≡ Some x → StandsIn s name k i hs x
in_part s name k i [] j x e = cc
in_part s name k i (h ∷ hs) j x e = go (λ m. in_part s name k (suc i) hs m x) (declares s name h.content) refl j e where
  first : (y : Spot) → Some (record { part = k; section = i }) ≡ Some y → (y.part ≡ k) × (y.section ≡ i)
  first y f = (cc, cc)

  go : ((m : ℕ) → slice_get (spots_in_part s name k (suc i) hs) m ≡ Some x → StandsIn s name k (suc i) hs x) → (b : Bool) → declares s name h.content ≡ b → (j : ℕ) → slice_get (cond b (record { part = k; section = i } ∷ spots_in_part s name k (suc i) hs) (spots_in_part s name k (suc i) hs)) j ≡ Some x → StandsIn s name k i (h ∷ hs) x
  go rest true d zero f = let p = first x f in record { number = 0; section = h; part_is = p.0; section_is = (let q = p.1 in omega (arith, q)); stands = refl; named = d }
  go rest true d (suc j) f = stands_later s name k i h hs x (rest j f)
  go rest false d j f = stands_later s name k i h hs x (rest j f)

in_part_there : (s : Space) (name : Bytes) (k i : ℕ) (hs : List HeadSection) (n : ℕ) (h : HeadSection) → slice_get hs n ≡ Some h → declares s name h.content ≡ true
    → (j : ℕ) × (y : Spot) × (slice_get (spots_in_part s name k i hs) j ≡ Some y) × (y.part ≡ k) × (y.section ≡ i + n)
in_part_there s name k i [] n h e d = cc
in_part_there s name k i (g ∷ hs) n h e d = go (λ m at. in_part_there s name k (suc i) hs m h at d) (declares s name g.content) refl n e where
  same : {x y : HeadSection} → Some x ≡ Some y → x ≡ y
  same f = cc

  go : ((n : ℕ) → slice_get hs n ≡ Some h → (j : ℕ) × (y : Spot) × (slice_get (spots_in_part s name k (suc i) hs) j ≡ Some y) × (y.part ≡ k) × (y.section ≡ suc i + n))
      → (b : Bool) → declares s name g.content ≡ b → (n : ℕ) → slice_get (g ∷ hs) n ≡ Some h
      → (j : ℕ) × (y : Spot) × (slice_get (cond b (record { part = k; section = i } ∷ spots_in_part s name k (suc i) hs) (spots_in_part s name k (suc i) hs)) j ≡ Some y) × (y.part ≡ k) × (y.section ≡ i + n)
  go rest true f zero at = (0, record { part = k; section = i }, refl, refl, omega arith)
  go rest true f (suc n) at = let r = rest n at in (suc r.0, r.1, r.2, r.3, (let q = r.4 in omega (arith, q)))
  go rest false f zero at = absurd (no (sym f ∙ (ap (λ x. declares s name x.content) (same at) ∙ d))) where
    no : false ≡ true → ⊥
    no z = cc
  go rest false f (suc n) at = let r = rest n at in (r.0, r.1, r.2, r.3, (let q = r.4 in omega (arith, q)))

in_part_ordered : (s : Space) (name : Bytes) (k i : ℕ) (hs : List HeadSection) (j m : ℕ) (x y : Spot) → slice_get (spots_in_part s name k i hs) j ≡ Some x → slice_get (spots_in_part s name k i hs) m ≡ Some y → j < m → x.section < y.section
in_part_ordered s name k i [] j m x y e f below = cc
in_part_ordered s name k i (h ∷ hs) j m x y e f below =
    go (λ a b. in_part_ordered s name k (suc i) hs a b x y) (λ b g. let q = (in_part s name k (suc i) hs b y g).section_is in omega (arith, q)) (declares s name h.content) j m e f below where
      first : Some (record { part = k; section = i }) ≡ Some x → x.section ≡ i
      first g = cc

      go : ((a b : ℕ) → slice_get (spots_in_part s name k (suc i) hs) a ≡ Some x → slice_get (spots_in_part s name k (suc i) hs) b ≡ Some y → a < b → x.section < y.section)
          → ((b : ℕ) → slice_get (spots_in_part s name k (suc i) hs) b ≡ Some y → i < y.section)
          → (b : Bool) (j m : ℕ) → slice_get (cond b (record { part = k; section = i } ∷ spots_in_part s name k (suc i) hs) (spots_in_part s name k (suc i) hs)) j ≡ Some x
          → slice_get (cond b (record { part = k; section = i } ∷ spots_in_part s name k (suc i) hs) (spots_in_part s name k (suc i) hs)) m ≡ Some y → j < m → x.section < y.section
      go rest later true j zero e f below = absurd (omega (arith, below))
      go rest later true zero (suc m) e f below = let r = later m f in let q = first e in omega (arith, r, q)
      go rest later true (suc j) (suc m) e f below = rest j m e f (omega (arith, below))
      go rest later false j m e f below = rest j m e f below

-- ---- all parts

-- A section of a part behind the first k declares the name, and this is its place.
record Stands (s : Space) (name : Bytes) (k : ℕ) (ps : List Part) (x : Spot) : Type 0 where
  number : ℕ
  section : HeadSection
  part_is : x.part ≡ k + number
  stands : section_at ps number x.section ≡ Some section
  named : declares s name section.content ≡ true

in_parts : (s : Space) (name : Bytes) (k : ℕ) (ps : List Part) (j : ℕ) (x : Spot) → slice_get (spots_from s name k ps) j ≡ Some x → Stands s name k ps x
in_parts s name k [] j x e = cc
in_parts s name k (p ∷ ps) j x e = elim (slice_get-append (spots_in_part s name k 0 p.sections) (spots_from s name (suc k) ps) j x e) [
  | inl h ↦ (let r = in_part s name k 0 p.sections j x h in let at : x.section ≡ r.number = (let q = r.section_is in omega (arith, q)) in
      record { number = 0; section = r.section; part_is = (let q = r.part_is in omega (arith, q)); stands = ap (slice_get p.sections) at ∙ r.stands; named = r.named })
  | inr h ↦ (let r = in_parts s name (suc k) ps h.0 x h.2 in
      record { number = suc r.number; section = r.section; part_is = (let q = r.part_is in omega (arith, q)); stands = r.stands; named = r.named })
]

in_parts_there : (s : Space) (name : Bytes) (k : ℕ) (ps : List Part) (n i : ℕ) (h : HeadSection) → section_at ps n i ≡ Some h → declares s name h.content ≡ true
    → (j : ℕ) × (y : Spot) × (slice_get (spots_from s name k ps) j ≡ Some y) × (y.part ≡ k + n) × (y.section ≡ i)
in_parts_there s name k [] n i h e d = cc
in_parts_there s name k (p ∷ ps) zero i h e d =
    let r = in_part_there s name k 0 p.sections i h e d in
    (r.0, r.1, slice_get-front (spots_in_part s name k 0 p.sections) (spots_from s name (suc k) ps) r.0 r.1 r.2, (let q = r.3 in omega (arith, q)), (let q = r.4 in omega (arith, q)))
in_parts_there s name k (p ∷ ps) (suc n) i h e d =
    let r = in_parts_there s name (suc k) ps n i h e d in
    let b = slice_get-behind (spots_in_part s name k 0 p.sections) (spots_from s name (suc k) ps) r.0 r.1 r.2 in
    (b.0, r.1, b.1, (let q = r.3 in omega (arith, q)), r.4)

in_parts_ordered : (s : Space) (name : Bytes) (k : ℕ) (ps : List Part) (j m : ℕ) (x y : Spot) → slice_get (spots_from s name k ps) j ≡ Some x → slice_get (spots_from s name k ps) m ≡ Some y → j < m → x.part ≡ y.part
    → x.section < y.section
in_parts_ordered s name k [] j m x y e f below same = cc
in_parts_ordered s name k (p ∷ ps) j m x y e f below same = go (λ a b g h l. in_parts_ordered s name (suc k) ps a b x y g h l same) (slice_get-append own rest j x e) (slice_get-append own rest m y f) where
  own : List Spot
  own = spots_in_part s name k 0 p.sections

  rest : List Spot
  rest = spots_from s name (suc k) ps

  Is : ℕ → Spot → Type 0
  Is n z = (slice_get own n ≡ Some z) ⊎ ((o : ℕ) × (n ≡ length own + o) × (slice_get rest o ≡ Some z))

  go : ((a b : ℕ) → slice_get rest a ≡ Some x → slice_get rest b ≡ Some y → a < b → x.section < y.section) → Is j x → Is m y → x.section < y.section
  go more (inl a) (inl b) = in_part_ordered s name k 0 p.sections j m x y a b below
  go more (inl a) (inr b) = absurd (let q = (in_part s name k 0 p.sections j x a).part_is in let r = (in_parts s name (suc k) ps b.0 y b.2).part_is in omega (arith, q, r, same))
  go more (inr a) (inl b) = absurd (let q = slice_get-short own m y b in let r = a.1 in omega (arith, q, r, below))
  go more (inr a) (inr b) = more a.0 b.0 a.2 b.2 (let q = a.1 in let r = b.1 in omega (arith, q, r, below))

-- ---- what they mean

pub spot_declared : (parts : List Part) (s : Space) (name : Bytes) (j : ℕ) (x : Spot) → slice_get (spots_of parts s name) j ≡ Some x → (c : Content) × IsDeclared parts s name x.part x.section c
spot_declared parts s name j x e =
    let r = in_parts s name 0 parts j x e in
    let at : x.part ≡ r.number = (let q = r.part_is in omega (arith, q)) in
    (r.section.content, record { section = r.section; stands = ap (λ k. section_at parts k x.section) at ∙ r.stands; says = refl; named = r.named })

pub declared_spot : (parts : List Part) (s : Space) (name : Bytes) (k i : ℕ) (c : Content) → IsDeclared parts s name k i c → (j : ℕ) × (y : Spot) × (slice_get (spots_of parts s name) j ≡ Some y) × (y.part ≡ k) × (y.section ≡ i)
declared_spot parts s name k i c d =
    let r = in_parts_there s name 0 parts k i d.section d.stands (ap (declares s name) d.says ∙ d.named) in
    (r.0, r.1, r.2, (let q = r.3 in omega (arith, q)), r.4)

pub spots_ordered : (parts : List Part) (s : Space) (name : Bytes) (j m : ℕ) (x y : Spot) → slice_get (spots_of parts s name) j ≡ Some x → slice_get (spots_of parts s name) m ≡ Some y → j < m → x.part ≡ y.part
    → x.section < y.section
spots_ordered parts s name = in_parts_ordered s name 0 parts
