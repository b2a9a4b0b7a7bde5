-- Joins of resources.
use Rattle.std.proofs.Common.{◌≡◌, ℕ, ◌+◌, ◌≤◌, ◌&&◌, not, nat_eq, nat_le, Bool, true, false, [], ◌∷◌, Option, None, Some, refl, sym, ◌∙◌, ap, subst, arith}
use Rattle.std.specs.Prelude.{option_and_then}
use Rattle.std.specs.List.{list_all}
use Rattle.std.proofs.lemmas.Bool.{and_parts, and_from, eqb-true, eq-eqb, leb-true, le-leb, not-true, both_ways}
use native.Mathlib.Decide.{dec_le}
use Rattle.vd_meaning.specs.Values.{Val, Invariant}
use Rattle.vd_meaning.specs.Shares.{Kind, Data, Lock, Hold, Token, same_kind, Shares, nothing, single, ◌⊕◌, ◌≐◌}
use Rattle.vd_meaning.specs.Resource.{Entry, Resource, part, is_at, may_join, behind, placed, with_entry, join, IsShare, IsMap, shares_of, IsResourceAt, IsResource}
use Rattle.vd_meaning.specs.ResourceLaws.{MapsAreResources, JoinsAdd, JoinsFail}
use Rattle.vd_meaning.proofs.Tests.{same_kind-is, same_kind-itself}
use Rattle.vd_meaning.proofs.Singles.{single-is, single-most, single-here, single-sum}

none≢some : {A : Type 0} {x : A} → None ≡ Some x → ⊥
none≢some e = cc

some-same : {A : Type 0} {x y : A} → Some x ≡ Some y → x ≡ y
some-same e = cc

abbrev share_of : Entry → Shares
share_of e = single e.block e.offset e.kind e.share

-- of one key
record OneKey (e x : Entry) : Type 0 where
  block : e.block ≡ x.block
  offset : e.offset ≡ x.offset
  part_is : part e.kind ≡ part x.kind

one_key : (e x : Entry) → is_at e x ≡ true → OneKey e x
one_key e x h =
    let a = and_parts (nat_eq e.block x.block) (nat_eq e.offset x.offset && nat_eq (part e.kind) (part x.kind)) h in
    let c = and_parts (nat_eq e.offset x.offset) (nat_eq (part e.kind) (part x.kind)) a.1 in
    record {
      block = eqb-true e.block x.block a.0;
      offset = eqb-true e.offset x.offset c.0;
      part_is = eqb-true (part e.kind) (part x.kind) c.1;
    }

at_key : (e x : Entry) → e.block ≡ x.block → e.offset ≡ x.offset → part e.kind ≡ part x.kind → is_at e x ≡ true
at_key e x p q r =
    and_from (nat_eq e.block x.block) (nat_eq e.offset x.offset && nat_eq (part e.kind) (part x.kind)) (eq-eqb e.block x.block p)
    (and_from (nat_eq e.offset x.offset) (nat_eq (part e.kind) (part x.kind)) (eq-eqb e.offset x.offset q) (eq-eqb (part e.kind) (part x.kind) r))

-- what is behind an entry
record Behind (x : Entry) (o : Option Resource) (q : Resource) : Type 0 where
  rest : Resource
  found : o ≡ Some rest
  whole : x ∷ rest ≡ q

behind-is : (x : Entry) (o : Option Resource) (q : Resource) → behind x o ≡ Some q → Behind x o q
behind-is x None q h = absurd (none≢some h)
behind-is x (Some r) q h = record { rest = r; found = refl; whole = some-same h }

behind-none : (x : Entry) (o : Option Resource) → behind x o ≡ None → o ≡ None
behind-none x None h = refl
behind-none x (Some r) h = absurd (none≢some (sym h))

-- ---- the shares of a join

joined-share : (e x : Entry) → is_at e x ≡ true → may_join e x ≡ true →
    single x.block x.offset x.kind (e.share + x.share) ≐ share_of e ⊕ share_of x
joined-share e x k m = λ c p j.
    let key = one_key e x k in
    let same = same_kind-is e.kind x.kind (and_parts (same_kind e.kind x.kind) (nat_le (e.share + x.share) 64) m).0 in
    single-sum x.block x.offset x.kind e.share x.share c p j
    ∙ ap (λ n. n + share_of x c p j)
    (ap (λ b. single b x.offset x.kind e.share c p j) (sym key.block)
    ∙ ap (λ o. single e.block o x.kind e.share c p j) (sym key.offset)
    ∙ ap (λ i. single e.block e.offset i e.share c p j) (sym same))

with-shares : (e : Entry) (r q : Resource) → with_entry e r ≡ Some q → shares_of q ≐ share_of e ⊕ shares_of r
with-shares e [] q h = subst (λ z. shares_of z ≐ share_of e ⊕ nothing) (some-same h) (λ c p j. refl)
with-shares e (x ∷ xs) q h = by (is_at e x) (may_join e x) refl refl (with-shares e xs) h
  where
    by : (t m : Bool) → is_at e x ≡ t → may_join e x ≡ m →
        ((y : Resource) → with_entry e xs ≡ Some y → shares_of y ≐ share_of e ⊕ shares_of xs) →
        placed t m e x xs (with_entry e xs) ≡ Some q → shares_of q ≐ share_of e ⊕ (share_of x ⊕ shares_of xs)
    by true true k m more g =
        subst (λ z. shares_of z ≐ share_of e ⊕ (share_of x ⊕ shares_of xs)) (some-same g)
        (λ c p j. let s = joined-share e x k m c p j in omega (arith, s))
    by true false k m more g = absurd (none≢some g)
    by false m k n more g =
        let b = behind-is x (with_entry e xs) q g in
        subst (λ z. shares_of z ≐ share_of e ⊕ (share_of x ⊕ shares_of xs)) b.whole
        (λ c p j. let s = more b.rest b.found c p j in omega (arith, s))

-- ---- maps

some-share : (k : Kind) (o s : ℕ) → IsShare k o s → 1 ≤ s
some-share (Data v) o s h = h.0
some-share (Lock i) o s h = h.0
some-share (Hold i) o s h = omega (arith, h)
some-share (Token n) o s h = let g = h.1 in omega (arith, g)

part-share : (k : Kind) (o s : ℕ) → IsShare k o s → s ≤ 64
part-share (Data v) o s h = h.1
part-share (Lock i) o s h = h.1
part-share (Hold i) o s h = omega (arith, h)
part-share (Token n) o s h = let g = h.1 in omega (arith, g)

sum-share : (k : Kind) (o s t : ℕ) → IsShare k o s → IsShare k o t → s + t ≤ 64 → IsShare k o (s + t)
sum-share (Data v) o s t h g l = (let x = h.0 in omega (arith, x), l)
sum-share (Lock i) o s t h g l = (let x = h.0 in omega (arith, x), l)
sum-share (Hold i) o s t h g l = absurd (omega (arith, h, g, l))
sum-share (Token n) o s t h g l = let x = h.1 in let y = g.1 in absurd (omega (arith, x, y, l))

abbrev is_fresh : Entry → Resource → Bool
is_fresh x r = list_all (λ y. not (is_at y x)) r

-- a key that stands behind no entry stays so where another entry joins
with-fresh : (e x : Entry) (r q : Resource) → is_at e x ≡ false → is_fresh x r ≡ true → with_entry e r ≡ Some q → is_fresh x q ≡ true
with-fresh e x [] q k f h =
    subst (λ z. is_fresh x z ≡ true) (some-same h) (and_from (not (is_at e x)) true (ap not k) refl)
with-fresh e x (y ∷ ys) q k f h = by (is_at e y) (may_join e y) (with-fresh e x ys) h
  where
    parts : (not (is_at y x) ≡ true) × (is_fresh x ys ≡ true)
    parts = and_parts (not (is_at y x)) (is_fresh x ys) f

    by : (t m : Bool) → ((z : Resource) → is_at e x ≡ false → is_fresh x ys ≡ true → with_entry e ys ≡ Some z → is_fresh x z ≡ true) →
        placed t m e y ys (with_entry e ys) ≡ Some q → is_fresh x q ≡ true
    by true true more g = subst (λ z. is_fresh x z ≡ true) (some-same g) f
    by true false more g = absurd (none≢some g)
    by false m more g =
        let b = behind-is y (with_entry e ys) q g in
        subst (λ z. is_fresh x z ≡ true) b.whole
        (and_from (not (is_at y x)) (is_fresh x b.rest) parts.0 (more b.rest k parts.1 b.found))

with-map : (e : Entry) (r q : Resource) → IsShare e.kind e.offset e.share → IsMap r → with_entry e r ≡ Some q → IsMap q
with-map e [] q i m h = subst IsMap (some-same h) (i, (refl, tt))
with-map e (x ∷ xs) q i m h = by (is_at e x) (may_join e x) refl refl (with-map e xs) h
  where
    by : (t j : Bool) → is_at e x ≡ t → may_join e x ≡ j →
        ((z : Resource) → IsShare e.kind e.offset e.share → IsMap xs → with_entry e xs ≡ Some z → IsMap z) →
        placed t j e x xs (with_entry e xs) ≡ Some q → IsMap q
    by true true k j more g =
        let p = and_parts (same_kind e.kind x.kind) (nat_le (e.share + x.share) 64) j in
        let l = leb-true (e.share + x.share) 64 p.1 in
        let f = subst (λ a. IsShare a x.offset e.share) (same_kind-is e.kind x.kind p.0) (subst (λ o. IsShare e.kind o e.share) (one_key e x k).offset i) in
        subst IsMap (some-same g) (sum-share x.kind x.offset e.share x.share f m.0 l, m.1)
    by true false k j more g = absurd (none≢some g)
    by false j k n more g =
        let b = behind-is x (with_entry e xs) q g in
        subst IsMap b.whole (m.0, (with-fresh e x xs b.rest k m.1.0 b.found, more b.rest i m.1.1 b.found))

-- an entry put in before the others, or none
record First (a : Resource) (o : Option Resource) (q : Resource) : Type 0 where
  middle : Resource
  found : o ≡ Some middle
  then_is : join a middle ≡ Some q

first-is : (a : Resource) (o : Option Resource) (q : Resource) → option_and_then (join a) o ≡ Some q → First a o q
first-is a None q h = absurd (none≢some h)
first-is a (Some r) q h = record { middle = r; found = refl; then_is = h }

pub joins_add : JoinsAdd
joins_add [] c r m n h = subst (λ z. IsMap z × (shares_of z ≐ nothing ⊕ shares_of c)) (some-same h) (n, λ b o k. omega arith)
joins_add (e ∷ a) c r m n h =
    let f = first-is a (with_entry e c) r h in
    let next = joins_add a f.middle r m.1.1 (with-map e c f.middle m.0 n f.found) f.then_is in
    let s = with-shares e c f.middle f.found in
    (next.0, λ b o k. omega (arith, next.1 b o k, s b o k))

-- ---- the shares of a map are a resource

-- a key that stands behind no entry has no share there
absent : (x : Entry) (r : Resource) (k : Kind) → is_fresh x r ≡ true → part k ≡ part x.kind → 1 ≤ shares_of r x.block x.offset k → ⊥
absent x [] k f p h = omega arith
absent x (y ∷ ys) k f p h = by (dec_le 1 (share_of y x.block x.offset k)) (λ g. absent x ys k parts.1 p g)
  where
    parts : (not (is_at y x) ≡ true) × (is_fresh x ys ≡ true)
    parts = and_parts (not (is_at y x)) (is_fresh x ys) f

    by : Dec (1 ≤ share_of y x.block x.offset k) → (1 ≤ shares_of ys x.block x.offset k → ⊥) → ⊥
    by (yes l) more =
        let at = single-is y.block y.offset y.kind y.share x.block x.offset k l in
        both_ways (is_at y x) (not-true (is_at y x) parts.0) (at_key y x at.0 at.1.0 (ap part at.1.1 ∙ p))
    by (no n) more = more (omega arith)

-- of one part of a place there is one content
one-content : (r : Resource) → IsMap r → (b o : ℕ) (k j : Kind) → part k ≡ part j → 1 ≤ shares_of r b o k → 1 ≤ shares_of r b o j → k ≡ j
one-content [] m b o k j p h g = absurd (omega arith)
one-content (e ∷ r) m b o k j p h g =
    by (dec_le 1 (share_of e b o k)) (dec_le 1 (share_of e b o j)) (λ x y. one-content r m.1.1 b o k j p x y)
  where
    -- one of them is the first entry's, the other stands behind it
    clash : (i l : Kind) → part i ≡ part l → 1 ≤ share_of e b o i → 1 ≤ shares_of r b o l → ⊥
    clash i l q x y =
        let at = single-is e.block e.offset e.kind e.share b o i x in
        absent e r l m.1.0 (sym q ∙ ap part (sym at.1.1))
        (subst (λ c. 1 ≤ shares_of r c e.offset l) (sym at.0) (subst (λ c. 1 ≤ shares_of r b c l) (sym at.1.0) y))

    by : Dec (1 ≤ share_of e b o k) → Dec (1 ≤ share_of e b o j) → (1 ≤ shares_of r b o k → 1 ≤ shares_of r b o j → k ≡ j) → k ≡ j
    by (yes x) (yes y) more =
        sym (single-is e.block e.offset e.kind e.share b o k x).1.1 ∙ (single-is e.block e.offset e.kind e.share b o j y).1.1
    by (yes x) (no n) more = absurd (clash k j p x (omega arith))
    by (no n) (yes y) more = absurd (clash j k (sym p) y (omega arith))
    by (no n) (no l) more = more (omega arith) (omega arith)

most-share : (r : Resource) → IsMap r → (b o : ℕ) (k : Kind) → shares_of r b o k ≤ 64
most-share [] m b o k = omega arith
most-share (e ∷ r) m b o k = by (dec_le 1 (share_of e b o k)) (dec_le 1 (shares_of r b o k)) (most-share r m.1.1 b o k)
  where
    by : Dec (1 ≤ share_of e b o k) → Dec (1 ≤ shares_of r b o k) → shares_of r b o k ≤ 64 → share_of e b o k + shares_of r b o k ≤ 64
    by (no n) d more = omega (arith, more, n)
    by (yes x) (no n) more = let h = single-most e.block e.offset e.kind e.share b o k in let l = part-share e.kind e.offset e.share m.0 in omega (arith, h, n, l)
    by (yes x) (yes y) more =
        let at = single-is e.block e.offset e.kind e.share b o k x in
        absurd (absent e r k m.1.0 (ap part (sym at.1.1))
        (subst (λ c. 1 ≤ shares_of r c e.offset k) (sym at.0) (subst (λ c. 1 ≤ shares_of r b c k) (sym at.1.0) y)))

data-same : {v u : Val} → Data v ≡ Data u → v ≡ u
data-same e = cc

lock-same : {i j : Invariant} → Lock i ≡ Lock j → i ≡ j
lock-same e = cc

hold-same : {i j : Invariant} → Hold i ≡ Hold j → i ≡ j
hold-same e = cc

token-same : {n m : ℕ} → Token n ≡ Token m → n ≡ m
token-same e = cc

data≢lock : {v : Val} {i : Invariant} → Data v ≡ Lock i → ⊥
data≢lock e = cc

pub maps_are_resources : MapsAreResources
maps_are_resources r m = λ b o. record {
  most = λ k. most-share r m b o k;
  one_data = λ v u h g. data-same (one-content r m b o (Data v) (Data u) refl h g);
  data_lock = λ v i h g. data≢lock (one-content r m b o (Data v) (Lock i) refl h g);
  one_lock = λ i j h g. lock-same (one-content r m b o (Lock i) (Lock j) refl h g);
  one_hold = λ i j h g. hold-same (one-content r m b o (Hold i) (Hold j) refl h g);
  one_token = λ n l h g. token-same (one-content r m b o (Token n) (Token l) refl h g);
}

-- ---- where there is no join

-- a resource has one content of each part
content-of : (f : Kind → ℕ) → IsResourceAt f → (k j : Kind) → part k ≡ part j → 1 ≤ f k → 1 ≤ f j → k ≡ j
content-of f x (Data v) (Data u) p h g = ap Data (x.one_data v u h g)
content-of f x (Data v) (Lock i) p h g = absurd (x.data_lock v i h g)
content-of f x (Lock i) (Data v) p h g = absurd (x.data_lock v i g h)
content-of f x (Lock i) (Lock j) p h g = ap Lock (x.one_lock i j h g)
content-of f x (Hold i) (Hold j) p h g = ap Hold (x.one_hold i j h g)
content-of f x (Token n) (Token l) p h g = ap Token (x.one_token n l h g)
content-of f x k j p h g = absurd (omega (arith, p))

fewer-at : (f g : Kind → ℕ) → ((k : Kind) → f k ≤ g k) → IsResourceAt g → IsResourceAt f
fewer-at f g e x = record {
  most = λ k. omega (arith, e k, x.most k);
  one_data = λ v u p q. x.one_data v u (omega (arith, e (Data v))) (omega (arith, e (Data u)));
  data_lock = λ v i p q. x.data_lock v i (omega (arith, e (Data v))) (omega (arith, e (Lock i)));
  one_lock = λ i j p q. x.one_lock i j (omega (arith, e (Lock i))) (omega (arith, e (Lock j)));
  one_hold = λ i j p q. x.one_hold i j (omega (arith, e (Hold i))) (omega (arith, e (Hold j)));
  one_token = λ n m p q. x.one_token n m (omega (arith, e (Token n))) (omega (arith, e (Token m)));
}

-- two entries of one key whose shares stand together in a resource join
may-join : (e x : Entry) (f : Kind → ℕ) → IsResourceAt f → part e.kind ≡ part x.kind → 1 ≤ e.share → 1 ≤ x.share →
    e.share ≤ f e.kind → x.share ≤ f x.kind → (e.kind ≡ x.kind → e.share + x.share ≤ f x.kind) → may_join e x ≡ true
may-join e x f r p lo lx he hx both =
    let k : e.kind ≡ x.kind = content-of f r e.kind x.kind p (omega (arith, lo, he)) (omega (arith, lx, hx)) in
    let s = subst (λ j. same_kind e.kind j ≡ true) k (same_kind-itself e.kind) in
    let l = both k in
    let t = r.most x.kind in
    and_from (same_kind e.kind x.kind) (nat_le (e.share + x.share) 64) s (at_most (e.share + x.share) (omega (arith, l, t)))
  where
    at_most : (n : ℕ) → n ≤ 64 → nat_le n 64 ≡ true
    at_most n h = le-leb n 64 h

with-none : (e : Entry) (r : Resource) → 1 ≤ e.share → IsMap r → with_entry e r ≡ None → IsResource (share_of e ⊕ shares_of r) → ⊥
with-none e [] lo m h x = none≢some (sym h)
with-none e (y ∷ ys) lo m h x = by (is_at e y) (may_join e y) refl refl (with-none e ys lo m.1.1) h
  where
    by : (t j : Bool) → is_at e y ≡ t → may_join e y ≡ j → (with_entry e ys ≡ None → IsResource (share_of e ⊕ shares_of ys) → ⊥) →
        placed t j e y ys (with_entry e ys) ≡ None → ⊥
    by true true k j more g = none≢some (sym g)
    by true false k j more g =
        let key = one_key e y k in
        let f : Kind → ℕ = λ i. (share_of e ⊕ (share_of y ⊕ shares_of ys)) y.block y.offset i in
        let one = single-here y.block y.offset y.kind y.share in
        let other = subst (λ b. single b y.offset e.kind e.share y.block y.offset e.kind ≡ e.share) (sym key.block) (single-here y.block y.offset e.kind e.share) in
        let here = subst (λ o. single e.block o e.kind e.share y.block y.offset e.kind ≡ e.share) (sym key.offset) other in
        both_ways (may_join e y) j
        (may-join e y f (x y.block y.offset) key.part_is lo (some-share y.kind y.offset y.share m.0) (omega (arith, here)) (omega (arith, one))
        (λ q. let again = subst (λ i. single e.block e.offset e.kind e.share y.block y.offset i ≡ e.share) q here in omega (arith, again, one)))
    by false j k n more g =
        more (behind-none y (with_entry e ys) g)
        (λ b o. fewer-at ((share_of e ⊕ shares_of ys) b o) ((share_of e ⊕ (share_of y ⊕ shares_of ys)) b o) (λ i. omega arith) (x b o))

pub joins_fail : JoinsFail
joins_fail [] c m n h x = none≢some (sym h)
joins_fail (e ∷ a) c m n h x = by (with_entry e c) refl h (λ q w g y. joins_fail a q m.1.1 (with-map e c q m.0 n w) g y)
  where
    by : (o : Option Resource) → with_entry e c ≡ o → option_and_then (join a) o ≡ None →
        ((q : Resource) → with_entry e c ≡ Some q → join a q ≡ None → IsResource (shares_of a ⊕ shares_of q) → ⊥) → ⊥
    by None w g more =
        with-none e c (some-share e.kind e.offset e.share m.0) n w
        (λ b o. fewer-at ((share_of e ⊕ shares_of c) b o) (((share_of e ⊕ shares_of a) ⊕ shares_of c) b o) (λ i. omega arith) (x b o))
    by (Some q) w g more =
        let s = with-shares e c q w in
        more q w g
        (λ b o. fewer-at ((shares_of a ⊕ shares_of q) b o) (((share_of e ⊕ shares_of a) ⊕ shares_of c) b o) (λ i. omega (arith, s b o i)) (x b o))
