-- Two declarations of a name, as the code finds them.
use Rattle.std.proofs.Common.{◌≡◌, ◌==◌, ℕ, zero, suc, ◌<◌, ◌≤◌, ◌⊎◌, Bool, true, false, not, ◌&&◌, List, [], ◌∷◌, length, get_or, map, Option, None, Some, Bor, inl, inr, refl, ap, sym, ◌∙◌, subst, arith, eq-eqb}
use Rattle.std.proofs.lemmas.Bool.{and_parts, both_ways, cases_lt, eqb-true, false_from_ne_true, not-true, or_cases, or_left, or_right}
use Rattle.std.proofs.lemmas.Option.{same_Some, slice_get_within}
use Rattle.std.specs.List.{slice_get, list_any, Contains}
use Rattle.std.specs.Option.{option_map}
use Rattle.vd_heads.specs.declared.content.Content.{Content}
use Rattle.vd_heads.specs.declared.content.HeadSection.{HeadSection}
use Rattle.vd_heads.specs.declared.content.Part.{Part}
use Rattle.vd_heads.specs.declared.table.Space.{Space}
use Rattle.vd_heads.specs.declared.table.Space.TheVariants as space
use Rattle.vd_heads.specs.declared.table.Spot.{Spot}
use Rattle.vd_heads.specs.declared.view.View.{View}
use Rattle.vd_heads.specs.Closure.{Sees}
use Rattle.vd_heads.specs.Declaration.{Bytes, IsDeclared, section_at}
use Rattle.vd_heads.specs.Least.{IsLeastOrNone, IsPlaceOf}
use Rattle.vd_heads.specs.Views.{IsView, in_space, is_marked, spots_of}
use Rattle.vd_heads.proofs.Places.{spot_declared, declared_spot, spots_ordered}
use Rattle.vd_known.specs.Clash.{said_at, both_define, defines_at, clashes, clash_among, has_clash, last_own, least_joined}
use Rattle.vd_known.specs.Twice.{IsDefinition, IsTwofold, IsTwofoldAt, FailsTwice, last_place, own_sections, repeats}
use Rattle.vd_known.proofs.ItemLaws.{any_at, at_any}
use Rattle.vd_known.proofs.LeastLaws.{Items, least_same, least_both}
use Rattle.vd_known.proofs.PlaceLaws.{last_is}

-- ---- two places

-- Two places that are seen, of which neither defines the other.
pub record IsClash (v : View) (xs : List Spot) : Type 0 where
  pub first : ℕ
  pub other : ℕ
  pub one : Spot
  pub two : Spot
  pub ordered : first < other
  pub one_stands : slice_get xs first ≡ Some one
  pub two_stands : slice_get xs other ≡ Some two
  pub one_seen : is_marked v.closure.items one.part ≡ true
  pub two_seen : is_marked v.closure.items two.part ≡ true
  pub forth : defines_at v one two ≡ false
  pub back : defines_at v two one ≡ false

later : (v : View) (x : Spot) (xs : List Spot) → IsClash v xs → IsClash v (x ∷ xs)
later v x xs r = record { first = suc r.first; other = suc r.other; one = r.one; two = r.two; ordered = (let w = r.ordered in omega (arith, w)); one_stands = r.one_stands; two_stands = r.two_stands; one_seen = r.one_seen; two_seen = r.two_seen; forth = r.forth; back = r.back }

here : (v : View) (x : Spot) (xs : List Spot) → clash_among v x xs ≡ true → IsClash v (x ∷ xs)
unfolding clash_among clashes
here v x xs e =
    let a = and_parts (is_marked v.closure.items x.part) (list_any (clashes v x) xs) e in
    let r = any_at (clashes v x) xs a.1 in
    let b = and_parts (is_marked v.closure.items r.1.part) (not (defines_at v x r.1) && not (defines_at v r.1 x)) r.3 in
    let d = and_parts (not (defines_at v x r.1)) (not (defines_at v r.1 x)) b.1 in
    record { first = 0; other = suc r.0; one = x; two = r.1; ordered = omega arith; one_stands = refl; two_stands = r.2; one_seen = a.0; two_seen = b.0; forth = not-true (defines_at v x r.1) d.0; back = not-true (defines_at v r.1 x) d.1 }

pub clash_found : (v : View) (xs : List Spot) → has_clash v xs ≡ true → IsClash v xs
clash_found v [] e = cc
clash_found v (x ∷ xs) e = elim (or_cases (clash_among v x xs) (has_clash v xs) e) [ inl h ↦ here v x xs h | inr h ↦ later v x xs (clash_found v xs h) ]

both_hold : (a b c : Bool) → a ≡ true → b ≡ false → c ≡ false → a && (not b && not c) ≡ true
both_hold true false false e f g = refl
both_hold false b c e f g = cc
both_hold true true c e f g = cc
both_hold true false true e f g = cc

among_whole : (v : View) (x y : Spot) (xs : List Spot) (m : ℕ) → slice_get xs m ≡ Some y → is_marked v.closure.items x.part ≡ true → is_marked v.closure.items y.part ≡ true → defines_at v x y ≡ false → defines_at v y x ≡ false → clash_among v x xs ≡ true
unfolding clash_among clashes
among_whole v x y xs m at seen other forth back =
    ap (λ b. b && list_any (clashes v x) xs) seen ∙ at_any (clashes v x) xs m y at (both_hold (is_marked v.closure.items y.part) (defines_at v x y) (defines_at v y x) other forth back)

pub clash_whole : (v : View) (xs : List Spot) (j m : ℕ) (x y : Spot) → j < m → slice_get xs j ≡ Some x → slice_get xs m ≡ Some y → is_marked v.closure.items x.part ≡ true → is_marked v.closure.items y.part ≡ true
    → defines_at v x y ≡ false → defines_at v y x ≡ false → has_clash v xs ≡ true
clash_whole v [] j m x y below at_x at_y seen other forth back = cc
clash_whole v (z ∷ xs) j zero x y below at_x at_y seen other forth back = absurd (omega (arith, below))
clash_whole v (z ∷ xs) zero (suc m) x y below at_x at_y seen other forth back =
    or_left (clash_among v z xs) (has_clash v xs) (subst (λ w. clash_among v w xs ≡ true) (sym (same_Some z x at_x)) (among_whole v x y xs m at_y seen other forth back))
clash_whole v (z ∷ xs) (suc j) (suc m) x y below at_x at_y seen other forth back =
    or_right (clash_among v z xs) (has_clash v xs) (clash_whole v xs j m x y (omega (arith, below)) at_x at_y seen other forth back)

-- ---- what defines what

said : (v : View) (s : Space) (name : Bytes) (x : Spot) (c : Content) → IsDeclared v.parts.now s name x.part x.section c → said_at v x ≡ Some c
said v s name x c d = ap (option_map (λ h. h.content)) d.stands ∙ ap Some d.says

defining : (v : View) (x y : Spot) (c d : Content) → IsView v → said_at v x ≡ Some c → said_at v y ≡ Some d → defines_at v x y ≡ true → IsDefinition v.parts.now v.own x.part c y.part d
unfolding defines_at
defining v x y c d is said_x said_y e =
    let a = and_parts (x.part == v.own) (is_marked v.exported.items y.part && both_define (said_at v x) (said_at v y)) e in
    let b = and_parts (is_marked v.exported.items y.part) (both_define (said_at v x) (said_at v y)) a.1 in
    record { own_is = eqb-true x.part v.own a.0; exported = (is.exported y.part).0 b.0; defined = ap (λ o. both_define o (Some d)) (sym said_x) ∙ (ap (both_define (said_at v x)) (sym said_y) ∙ b.1) }

defined : (v : View) (x y : Spot) (c d : Content) → IsView v → said_at v x ≡ Some c → said_at v y ≡ Some d → IsDefinition v.parts.now v.own x.part c y.part d → defines_at v x y ≡ true
unfolding defines_at
defined v x y c d is said_x said_y e =
    ap (λ b. b && (is_marked v.exported.items y.part && both_define (said_at v x) (said_at v y))) (eq-eqb x.part v.own e.own_is)
    ∙ (ap (λ b. b && both_define (said_at v x) (said_at v y)) ((is.exported y.part).1 e.exported)
    ∙ (ap (λ o. both_define o (said_at v y)) said_x ∙ (ap (both_define (Some c)) said_y ∙ e.defined)))

-- ---- names

pub twofold_found : (v : View) (s : Space) (name : Bytes) → IsView v → has_clash v (spots_of v.parts.now s name) ≡ true → IsTwofold v.parts.now v.own s name
twofold_found v s name is e =
    let k = clash_found v (spots_of v.parts.now s name) e in
    let a = spot_declared v.parts.now s name k.first k.one k.one_stands in
    let b = spot_declared v.parts.now s name k.other k.two k.two_stands in
    let says_a = said v s name k.one a.0 a.1 in
    let says_b = said v s name k.two b.0 b.1 in
    record {
      first_part = k.one.part;
      first_section = k.one.section;
      first_says = a.0;
      other_part = k.two.part;
      other_section = k.two.section;
      other_says = b.0;
      first = record { reached = ((is.closure k.one.part).0 k.one_seen).1; declared = a.1 };
      other = record { reached = ((is.closure k.two.part).0 k.two_seen).1; declared = b.1 };
      are_two = λ p q. (let o : k.one.section < k.two.section = spots_ordered v.parts.now s name k.first k.other k.one k.two k.one_stands k.two_stands k.ordered p in omega (arith, o, q));
      first_defines_not = λ d. both_ways (defines_at v k.one k.two) k.forth (defined v k.one k.two a.0 b.0 is says_a says_b d);
      other_defines_not = λ d. both_ways (defines_at v k.two k.one) k.back (defined v k.two k.one b.0 a.0 is says_b says_a d);
    }

part_within : (parts : List Part) (k i : ℕ) (h : HeadSection) → section_at parts k i ≡ Some h → k < length parts
part_within [] k i h e = cc
part_within (p ∷ parts) zero i h e = omega arith
part_within (p ∷ parts) (suc k) i h e = let r = part_within parts k i h e in omega arith

moved : (v : View) (s : Space) (name : Bytes) (x : Spot) (k i : ℕ) (c : Content) → x.part ≡ k → x.section ≡ i → Sees v.parts.now v.own s name k i c → Sees v.parts.now v.own s name x.part x.section c
moved v s name x k i c p q h = subst (λ a. Sees v.parts.now v.own s name a x.section c) (sym p) (subst (λ b. Sees v.parts.now v.own s name k b c) (sym q) h)

seen_spot : (v : View) (s : Space) (name : Bytes) (x : Spot) (c : Content) → IsView v → Sees v.parts.now v.own s name x.part x.section c → is_marked v.closure.items x.part ≡ true
seen_spot v s name x c is h = (is.closure x.part).1 (part_within v.parts.now x.part x.section h.declared.section h.declared.stands, h.reached)

two_clash : (v : View) (s : Space) (name : Bytes) (j m : ℕ) (x y : Spot) (c d : Content) → IsView v → slice_get (spots_of v.parts.now s name) j ≡ Some x → slice_get (spots_of v.parts.now s name) m ≡ Some y
    → Sees v.parts.now v.own s name x.part x.section c → Sees v.parts.now v.own s name y.part y.section d → (x ≡ y → ⊥) → (IsDefinition v.parts.now v.own x.part c y.part d → ⊥) → (IsDefinition v.parts.now v.own y.part d x.part c → ⊥)
    → has_clash v (spots_of v.parts.now s name) ≡ true
two_clash v s name j m x y c d is at_x at_y sees_x sees_y differ forth back =
    let xs = spots_of v.parts.now s name in
    let says_x = said v s name x c sees_x.declared in
    let says_y = said v s name y d sees_y.declared in
    let seen = seen_spot v s name x c is sees_x in
    let other = seen_spot v s name y d is sees_y in
    let no_forth = false_from_ne_true (defines_at v x y) (λ e. forth (defining v x y c d is says_x says_y e)) in
    let no_back = false_from_ne_true (defines_at v y x) (λ e. back (defining v y x d c is says_y says_x e)) in
    elim (cases_lt j m) [
      | inl below ↦ clash_whole v xs j m x y below at_x at_y seen other no_forth no_back
      | inr above ↦ elim (cases_lt m j) [
        | inl below ↦ clash_whole v xs m j y x below at_y at_x other seen no_back no_forth
        | inr same ↦ (let e : j ≡ m = omega arith in absurd (differ (same_Some x y (sym at_x ∙ (ap (slice_get xs) e ∙ at_y)))))
      ]
    ]

pub twofold_whole : (v : View) (s : Space) (name : Bytes) → IsView v → IsTwofold v.parts.now v.own s name → has_clash v (spots_of v.parts.now s name) ≡ true
twofold_whole v s name is t =
    let a = declared_spot v.parts.now s name t.first_part t.first_section t.first_says t.first.declared in
    let b = declared_spot v.parts.now s name t.other_part t.other_section t.other_says t.other.declared in
    let x = a.1 in
    let y = b.1 in
    two_clash v s name a.0 b.0 x y t.first_says t.other_says is a.2 b.2 (moved v s name x t.first_part t.first_section t.first_says a.3 a.4 t.first) (moved v s name y t.other_part t.other_section t.other_says b.3 b.4 t.other)
    (λ e. t.are_two (sym a.3 ∙ (ap (λ z. z.part) e ∙ b.3)) (sym a.4 ∙ (ap (λ z. z.section) e ∙ b.4)))
    (λ d. t.first_defines_not (subst (λ k. IsDefinition v.parts.now v.own k t.first_says t.other_part t.other_says) a.3 (subst (λ k. IsDefinition v.parts.now v.own x.part t.first_says k t.other_says) b.3 d)))
    (λ d. t.other_defines_not (subst (λ k. IsDefinition v.parts.now v.own k t.other_says t.first_part t.first_says) b.3 (subst (λ k. IsDefinition v.parts.now v.own y.part t.other_says k t.first_says) a.3 d)))

at_least_two : (v : View) (xs : List Spot) → has_clash v xs ≡ true → 2 ≤ length xs
at_least_two v xs e = let k = clash_found v xs e in let o = k.ordered in let w = slice_get_within xs k.other k.two k.two_stands in omega arith

-- ---- places of names

pub clash_least : (v : View) (s : Space) (name : Bytes) (xs : List Spot) (place : ℕ) → IsView v → xs ≡ spots_of v.parts.now s name → place ≡ last_own v 0 xs → has_clash v xs ≡ true → IsLeastOrNone (IsTwofoldAt v.parts.now v.own s name) (Some place)
clash_least v s name xs place is same at e =
    let p : place ≡ last_place s name 0 (own_sections v.parts.now v.own) = at ∙ (ap (last_own v 0) same ∙ last_is v s name) in
    ((twofold_found v s name is (ap (has_clash v) (sym same) ∙ e), p), λ o h. (let q = h.1 in omega (arith, p, q)))

pub no_clash : (v : View) (s : Space) (name : Bytes) (xs : List Spot) → IsView v → xs ≡ spots_of v.parts.now s name → has_clash v xs ≡ false → IsLeastOrNone (IsTwofoldAt v.parts.now v.own s name) None
no_clash v s name xs is same e = λ at h. both_ways (has_clash v xs) e (ap (has_clash v) same ∙ twofold_whole v s name is h.0)

shared_item : (ks : List (Bor Bytes)) (k : ℕ) (name : Bytes) → k < length (map (λ b. b.now) ks) → get_or (map (λ b. b.now) ks) k name ≡ name → (b : Bor Bytes) × (slice_get ks k ≡ Some b) × (b.now ≡ name) × (k < length ks)
shared_item [] k name below at = absurd (omega (arith, below))
shared_item (b ∷ ks) zero name below at = (b, refl, at, omega arith)
shared_item (b ∷ ks) (suc k) name below at = let r = shared_item ks k name (omega (arith, below)) at in let w = r.3 in (r.0, r.1, r.2, omega arith)

pub twofold_all : (v : View) (s : Space) (ks : List (Bor Bytes)) (n : ℕ) (o : Option ℕ) → IsView v → ks ≡ (in_space s v.table.now).shared → length ks ≤ n → IsLeastOrNone (Items (λ b at. IsTwofoldAt v.parts.now v.own s b.now at) ks n) o
    → IsLeastOrNone (λ place. (name : Bytes) × IsTwofoldAt v.parts.now v.own s name place) o
twofold_all v s ks n o is same past all = least_same o (λ at h. (h.item.now, h.holds)) from all where
  from : (at : ℕ) → ((name : Bytes) × IsTwofoldAt v.parts.now v.own s name at) → Items (λ b p. IsTwofoldAt v.parts.now v.own s b.now p) ks n at
  from at h =
      let two : 2 ≤ length (spots_of v.parts.now s h.0) = at_least_two v (spots_of v.parts.now s h.0) (twofold_whole v s h.0 is h.1.0) in
      let held : Contains (map (λ b. b.now) ks) h.0 = subst (λ x. Contains (map (λ b. b.now) x) h.0) (sym same) (((is.table.declarations s).shared h.0).1 two) in
      let r = shared_item ks held.0 h.0 held.1 held.2 in
      record { number = held.0; item = r.0; within = (let w = r.3 in omega (arith, w)); stands = r.1; holds = subst (λ x. IsTwofoldAt v.parts.now v.own s x at) (sym r.2) h.1 }

-- all spaces, and names within sections
pub twice_all : (parts : List Part) (own : ℕ) (r a b c d : Option ℕ) → IsLeastOrNone (IsPlaceOf parts own (λ x. repeats x ≡ true)) r
    → IsLeastOrNone (λ place. (name : Bytes) × IsTwofoldAt parts own space.Struct name place) a → IsLeastOrNone (λ place. (name : Bytes) × IsTwofoldAt parts own space.Global name place) b
    → IsLeastOrNone (λ place. (name : Bytes) × IsTwofoldAt parts own space.Function name place) c → IsLeastOrNone (λ place. (name : Bytes) × IsTwofoldAt parts own space.Predicate name place) d
    → IsLeastOrNone (FailsTwice parts own) (least_joined (least_joined (least_joined (least_joined r a) b) c) d)
twice_all parts own r a b c d is_r is_a is_b is_c is_d =
    least_same (least_joined (least_joined (least_joined (least_joined r a) b) c) d) to from
    (least_both _ _ (least_joined (least_joined (least_joined r a) b) c) d (least_both _ _ (least_joined (least_joined r a) b) c (least_both _ _ (least_joined r a) b (least_both _ _ r a is_r is_a) is_b) is_c) is_d) where
      to : (at : ℕ) → (((IsPlaceOf parts own (λ x. repeats x ≡ true) at ⊎ ((name : Bytes) × IsTwofoldAt parts own space.Struct name at)) ⊎ ((name : Bytes) × IsTwofoldAt parts own space.Global name at)) ⊎ ((name : Bytes) × IsTwofoldAt parts own space.Function name at)) ⊎ ((name : Bytes) × IsTwofoldAt parts own space.Predicate name at)
          → FailsTwice parts own at
      to at (inr h) = inl (space.Predicate, h.0, h.1)
      to at (inl (inr h)) = inl (space.Function, h.0, h.1)
      to at (inl (inl (inr h))) = inl (space.Global, h.0, h.1)
      to at (inl (inl (inl (inr h)))) = inl (space.Struct, h.0, h.1)
      to at (inl (inl (inl (inl h)))) = inr h

      sort : (at : ℕ) (s : Space) (name : Bytes) → IsTwofoldAt parts own s name at
          → (((IsPlaceOf parts own (λ x. repeats x ≡ true) at ⊎ ((n : Bytes) × IsTwofoldAt parts own space.Struct n at)) ⊎ ((n : Bytes) × IsTwofoldAt parts own space.Global n at)) ⊎ ((n : Bytes) × IsTwofoldAt parts own space.Function n at)) ⊎ ((n : Bytes) × IsTwofoldAt parts own space.Predicate n at)
      sort at space.Struct name h = inl (inl (inl (inr (name, h))))
      sort at space.Global name h = inl (inl (inr (name, h)))
      sort at space.Function name h = inl (inr (name, h))
      sort at space.Predicate name h = inr (name, h)

      from : (at : ℕ) → FailsTwice parts own at
          → (((IsPlaceOf parts own (λ x. repeats x ≡ true) at ⊎ ((n : Bytes) × IsTwofoldAt parts own space.Struct n at)) ⊎ ((n : Bytes) × IsTwofoldAt parts own space.Global n at)) ⊎ ((n : Bytes) × IsTwofoldAt parts own space.Function n at)) ⊎ ((n : Bytes) × IsTwofoldAt parts own space.Predicate n at)
      from at (inl h) = sort at h.0 h.1 h.2
      from at (inr h) = inl (inl (inl (inl h)))
