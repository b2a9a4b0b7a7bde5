-- What a section defines for an interface, and what the interface declares.
use Rattle.std.proofs.Common.{◌≡◌, ℕ, ◌<◌, Bool, true, false, ◌&&◌, List, length, get_or, Option, Some, None, refl, sym, ap, ◌∙◌, subst, IsTrue}
use Rattle.std.specs.Prelude.{◌↔◌, not, option_map}
use Rattle.std.specs.List.{Any}
use Rattle.std.specs.Str.{bytes_eq}
use Rattle.std.proofs.lemmas.Option.{same_Some, none-some}
use Rattle.std.proofs.lemmas.Slice.Eq.{bytes_eq-Decides}
use Rattle.vd_heads.specs.declared.content.Content.{Content}
use Rattle.vd_heads.specs.declared.content.Content.TheVariants as content
use Rattle.vd_heads.specs.declared.content.Part.{Part}
use Rattle.vd_heads.specs.declared.table.Space.{Space}
use Rattle.vd_heads.specs.declared.table.Space.TheVariants as space
use Rattle.vd_heads.specs.declared.table.Spot.{Spot}
use Rattle.vd_heads.specs.Closure.{Exports}
use Rattle.vd_heads.specs.Declaration.{Bytes, IsDeclared, declares, same_space, section_at}
use Rattle.vd_heads.specs.Views.{spots_of}
use Rattle.vd_heads.proofs.Places.{declared_spot, spot_declared}
use Rattle.vd_sized.specs.Agreement.{DiffersAt, IsOtherwise, Matches, MatchesAll}
use Rattle.vd_sized.proofs.Seeing.{slice_get_at, at_slice_get}

no : false ≡ true → ⊥
no e = cc

both : (a b : Bool) → (a && b) ≡ true → (a ≡ true) × (b ≡ true)
both true b e = (refl, e)
both false b e = absurd (no e)

place : (s t : Space) → same_space s t ≡ true → s ≡ t
place space.Struct space.Struct e = refl
place space.Global space.Global e = refl
place space.Function space.Function e = refl
place space.Predicate space.Predicate e = refl
place space.Struct space.Global e = absurd (no e)
place space.Struct space.Function e = absurd (no e)
place space.Struct space.Predicate e = absurd (no e)
place space.Global space.Struct e = absurd (no e)
place space.Global space.Function e = absurd (no e)
place space.Global space.Predicate e = absurd (no e)
place space.Function space.Struct e = absurd (no e)
place space.Function space.Global e = absurd (no e)
place space.Function space.Predicate e = absurd (no e)
place space.Predicate space.Struct e = absurd (no e)
place space.Predicate space.Global e = absurd (no e)
place space.Predicate space.Function e = absurd (no e)

same : (s t own : Space) (n m name : Bytes) → (same_space s own && bytes_eq name n) ≡ true → (same_space t own && bytes_eq name m) ≡ true → (s ≡ t) × (n ≡ m)
same s t own n m name e f =
    let a = both (same_space s own) (bytes_eq name n) e in let b = both (same_space t own) (bytes_eq name m) f in
    (place s own a.0 ∙ sym (place t own b.0), sym ((bytes_eq-Decides name n).0 a.1) ∙ (bytes_eq-Decides name m).0 b.1)

-- a section declares one name in one name space
one_name : (s t : Space) (n m : Bytes) (c : Content) → declares s n c ≡ true → declares t m c ≡ true → (s ≡ t) × (n ≡ m)
one_name s t n m (content.Struct name fields) e f = same s t space.Struct n m name e f
one_name s t n m (content.Global g values) e f = same s t space.Global n m g.name e f
one_name s t n m (content.Abstract name sorts twice) e f = same s t space.Predicate n m name e f
one_name s t n m (content.Pred p twice) e f = same s t space.Predicate n m p.name e f
one_name s t n m (content.Spec g twice) e f = same s t space.Function n m g.name e f
one_name s t n m (content.Uses ms) e f = absurd (no e)
one_name s t n m (content.Exports ms) e f = absurd (no e)
one_name s t n m (content.Unread at) e f = absurd (no e)

module _ (parts : List Part) (own : ℕ) (c : Content) where
  abbrev Differs : Spot → Type 0
  Differs x = DiffersAt parts own c x.part x.section

  pub defines_nothing : MatchesAll c → IsTrue false ↔ IsOtherwise parts own c
  defines_nothing all = (λ t. absurd (no t), λ w. absurd (w.differs (all w.there)))

  module _ (s : Space) (name : Bytes) (named : declares s name c ≡ true) where
    pub otherwise_at : (j : ℕ) (x : Spot) → j < length (spots_of parts s name) → x ≡ get_or (spots_of parts s name) j x → Differs x → IsOtherwise parts own c
    otherwise_at j x lt is d =
        let at = spot_declared parts s name j x (at_slice_get (spots_of parts s name) j x lt (sym is)) in
        let one : d.section ≡ at.1.section = same_Some d.section at.1.section (sym d.stands ∙ at.1.stands) in
        record {
          interface = x.part;
          number = x.section;
          in_space = s;
          name = name;
          there = at.0;
          exported = d.exported;
          declared = at.1;
          is_same = named;
          differs = λ m. d.differs (subst (Matches c) (sym (ap (λ h. h.content) one ∙ at.1.says)) m);
        }

    pub not_otherwise : (Any Differs (spots_of parts s name) → ⊥) → IsOtherwise parts own c → ⊥
    not_otherwise none w =
        let e = one_name w.in_space s w.name name c w.is_same named in
        let here : IsDeclared parts s name w.interface w.number w.there = subst (λ n. IsDeclared parts s n w.interface w.number w.there) e.1 (subst (λ t. IsDeclared parts t w.name w.interface w.number w.there) e.0 w.declared) in
        let at = declared_spot parts s name w.interface w.number w.there here in
        let place_in = slice_get_at (spots_of parts s name) at.0 at.1 at.2 in
        let d : DiffersAt parts own c w.interface w.number = record { section = w.declared.section; exported = w.exported; stands = w.declared.stands; differs = λ m. w.differs (subst (Matches c) w.declared.says m) } in
        none (at.0, at.1, place_in.0, place_in.1, subst (λ k. DiffersAt parts own c at.1.part k) (sym at.4) (subst (λ k. DiffersAt parts own c k w.number) (sym at.3) d))

  module _ (s : Space) (name bytes : Bytes) (xs : List Spot) (named : declares s name c ≡ true) (e : bytes ≡ name) (f : xs ≡ spots_of parts s bytes) where
    spots_are : xs ≡ spots_of parts s name
    spots_are = f ∙ ap (spots_of parts s) e

    pub otherwise_in : (j : ℕ) (x : Spot) → j < length xs → x ≡ get_or xs j x → Differs x → IsOtherwise parts own c
    otherwise_in j x lt is d = otherwise_at s name named j x (subst (λ l. j < length l) spots_are lt) (is ∙ ap (λ l. get_or l j x) spots_are) d

    pub none_otherwise : (Any Differs xs → ⊥) → IsOtherwise parts own c → ⊥
    none_otherwise none = not_otherwise s name named (λ a. none (subst (Any Differs) (sym spots_are) a))

-- ---- at one place

map_some : {X Y : Type 0} (f : X → Y) (o : Option X) (y : Y) → Some y ≡ option_map f o → (x : X) × (o ≡ Some x) × (y ≡ f x)
map_some f None y e = absurd (none-some y (sym e))
map_some f (Some x) y e = (x, refl, same_Some y (f x) e)

map_none : {X Y : Type 0} (f : X → Y) (o : Option X) → None ≡ option_map f o → o ≡ None
map_none f None e = refl
map_none f (Some x) e = absurd (none-some (f x) e)

module _ (parts : List Part) (own : ℕ) (c : Content) (k i : ℕ) where
  pub not_exported : (Exports parts own k → ⊥) → IsTrue false ↔ DiffersAt parts own c k i
  not_exported none = (λ t. absurd (no t), λ w. absurd (none w.exported))

  pub nothing_there : None ≡ option_map (λ h. h.content) (section_at parts k i) → IsTrue false ↔ DiffersAt parts own c k i
  nothing_there e = (λ t. absurd (no t), λ w. absurd (none-some w.section (sym (map_none (λ h. h.content) (section_at parts k i) e) ∙ w.stands)))

  turned : (b : Bool) (P : Type 0) → IsTrue b ↔ P → IsTrue (not b) ↔ (P → ⊥)
  turned true P h = (λ t. absurd (no t), λ n. absurd (n (h.0 refl)))
  turned false P h = (λ t p. no (h.1 p), λ n. refl)

  pub differs_by : (there : Content) (b : Bool) → Exports parts own k → Some there ≡ option_map (λ h. h.content) (section_at parts k i) → IsTrue b ↔ Matches c there → IsTrue (not b) ↔ DiffersAt parts own c k i
  differs_by there b exported e h =
      let at = map_some (λ s. s.content) (section_at parts k i) there e in
      let t = turned b (Matches c there) h in (
        λ d. record { section = at.0; exported = exported; stands = at.1; differs = subst (λ x. Matches c x → ⊥) at.2 (t.0 d) },
        λ w. t.1 (subst (λ x. Matches c x → ⊥) (sym (at.2 ∙ ap (λ s. s.content) (same_Some at.0 w.section (sym at.1 ∙ w.stands)))) w.differs),
      )
