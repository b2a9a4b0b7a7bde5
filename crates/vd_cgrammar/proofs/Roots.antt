-- The root of an expression is the last of the operators that bind least tightly.
use Rattle.std.proofs.Common.{Some, ℕ, zero, suc, ◌+◌, ◌<◌, ◌≤◌, ◌≡◌, Bool, true, false, List, [], ◌∷◌, ◌++◌, refl, sym, ◌∙◌, ap, subst, arith, append_assoc}
use Rattle.std.specs.Prelude.{◌==◌, slice_get}
use Rattle.std.specs.List.{remove}
use Rattle.std.proofs.Math.Numerals.{add-one}
use Rattle.std.proofs.lemmas.Bool.{eqb-true, eqb-false}
use Rattle.vd_cgrammar.specs.declared.kind.Kind.{Kind}
use Rattle.vd_cgrammar.specs.declared.kind.Kind.TheVariants as k
use Rattle.vd_clight.specs.declared.syntax.Expr.{Expr}
use Rattle.vd_cgrammar.specs.Syntax.{level_of, operated, pass, passes, levels, grouped}
use Rattle.vd_cgrammar.specs.Levels.{AllFrom, StopsBelow, AllFromNext, Climbs, Climbing}

Ops : Type 0
Ops = List (Kind × Expr)

AllBelow : ℕ → List (Kind × Expr) → Type 0
AllBelow n [] = Unit {0}
AllBelow n (o ∷ os) = (level_of o.0 < n) × AllBelow n os

level_below : (kind : Kind) → level_of kind < levels
level_below k.Or = omega arith
level_below _ = omega arith

all_below : (os : List (Kind × Expr)) → AllBelow levels os
unfolding AllBelow
all_below [] = tt
all_below (o ∷ os) = (level_below o.0, all_below os)

pass_other : (n : ℕ) (x : Expr) (o : Kind × Expr) (os : List (Kind × Expr)) → (level_of o.0 == n) ≡ false → pass n x (o ∷ os) ≡ (x, (o.0, (pass n o.1 os).0) ∷ (pass n o.1 os).1)
pass_other n x o os h = rw h

pass_own : (n : ℕ) (x : Expr) (o : Kind × Expr) (os : List (Kind × Expr)) → (level_of o.0 == n) ≡ true → pass n x (o ∷ os) ≡ pass n (operated o.0 x o.1) os
pass_own n x o os h = rw h

-- an operator of another level stays where it is
pass_split : (n : ℕ) (x : Expr) (front : List (Kind × Expr)) (o : Kind × Expr) (back : List (Kind × Expr)) → (level_of o.0 == n) ≡ false
    → pass n x (front ++ o ∷ back) ≡ ((pass n x front).0, (pass n x front).1 ++ (o.0, (pass n o.1 back).0) ∷ (pass n o.1 back).1)
pass_split n x [] o back h = pass_other n x o back h
pass_split n x (p ∷ front) o back h = by_level (level_of p.0 == n) refl (λ y. pass_split n y front o back h)
  where
    by_level : (b : Bool) → (level_of p.0 == n) ≡ b
        → ((y : Expr) → pass n y (front ++ o ∷ back) ≡ ((pass n y front).0, (pass n y front).1 ++ (o.0, (pass n o.1 back).0) ∷ (pass n o.1 back).1))
        → pass n x (p ∷ (front ++ o ∷ back)) ≡ ((pass n x (p ∷ front)).0, (pass n x (p ∷ front)).1 ++ (o.0, (pass n o.1 back).0) ∷ (pass n o.1 back).1)
    by_level true e ih = rw (pass_own n x p (front ++ o ∷ back) e, pass_own n x p front e) (ih (operated p.0 x p.1))
    by_level false e ih = rw (pass_other n x p (front ++ o ∷ back) e, pass_other n x p front e) (ap (λ q. (x, (p.0, q.0) ∷ q.1)) (ih p.1))

from_pass : (m n : ℕ) (x : Expr) (os : List (Kind × Expr)) → AllFrom m os → AllFrom m (pass n x os).1
from_pass m n x [] a = tt
from_pass m n x (o ∷ os) a = by_level (level_of o.0 == n) refl (λ y. from_pass m n y os a.1)
  where
    by_level : (b : Bool) → (level_of o.0 == n) ≡ b → ((y : Expr) → AllFrom m (pass n y os).1) → AllFrom m (pass n x (o ∷ os)).1
    by_level true e ih = rw (pass_own n x o os e) (ih (operated o.0 x o.1))
    by_level false e ih = rw (pass_other n x o os e) (a.0, ih o.1)

below_pass : (n : ℕ) (x : Expr) (os : List (Kind × Expr)) → AllBelow (suc n) os → AllBelow n (pass n x os).1
unfolding AllBelow
below_pass n x [] a = tt
below_pass n x (o ∷ os) a = by_level (level_of o.0 == n) refl (λ y. below_pass n y os a.1)
  where
    by_level : (b : Bool) → (level_of o.0 == n) ≡ b → ((y : Expr) → AllBelow n (pass n y os).1) → AllBelow n (pass n x (o ∷ os)).1
    by_level true e ih = rw (pass_own n x o os e) (ih (operated o.0 x o.1))
    by_level false e ih = let ne = eqb-false (level_of o.0) n e in let lt : level_of o.0 < suc n = a.0 in rw (pass_other n x o os e) (omega (arith, ne), ih o.1)

none_between : (n : ℕ) (os : List (Kind × Expr)) → AllFrom n os → AllBelow n os → os ≡ []
unfolding AllBelow
none_between n [] a b = refl
none_between n (o ∷ os) a b = let x : n ≤ level_of o.0 = a.0 in let y : level_of o.0 < n = b.0 in absurd (omega arith)

passes_nothing : (n : ℕ) (x : Expr) → (passes n x []).0 ≡ x
passes_nothing zero x = refl
passes_nothing (suc n) x = passes_nothing n x

-- operators of one level group to the left
pass_last : (n : ℕ) (x : Expr) (front : List (Kind × Expr)) (o : Kind × Expr) → AllFrom n front → AllBelow (suc n) front → (level_of o.0 == n) ≡ true
    → pass n x (front ++ o ∷ []) ≡ (operated o.0 (pass n x front).0 o.1, [])
unfolding AllBelow
pass_last n x [] o a b h = pass_own n x o [] h
pass_last n x (p ∷ front) o a b h = by_level (level_of p.0 == n) refl (λ y. pass_last n y front o a.1 b.1 h)
  where
    by_level : (c : Bool) → (level_of p.0 == n) ≡ c → ((y : Expr) → pass n y (front ++ o ∷ []) ≡ (operated o.0 (pass n y front).0 o.1, []))
        → pass n x (p ∷ (front ++ o ∷ [])) ≡ (operated o.0 (pass n x (p ∷ front)).0 o.1, [])
    by_level true e ih = rw (pass_own n x p (front ++ o ∷ []) e, pass_own n x p front e) (ih (operated p.0 x p.1))
    by_level false e ih = let ne = eqb-false (level_of p.0) n e in let y : n ≤ level_of p.0 = a.0 in let z : level_of p.0 < suc n = b.0 in absurd (omega (arith, ne))

Splits : ℕ → Kind × Expr → Type 0
Splits n o = (x y : Expr) (front back : List (Kind × Expr)) → AllBelow n front → AllBelow n back → level_of o.0 < n → AllFrom (level_of o.0) front → AllFrom (suc (level_of o.0)) back
    → (passes n x (front ++ (o.0, y) ∷ back)).0 ≡ operated o.0 (passes n x front).0 (passes n y back).0

passes_split : (n : ℕ) (o : Kind × Expr) → Splits n o
unfolding Splits
passes_split zero o x y front back bf bb lt af ab = absurd (omega arith)
passes_split (suc n) o x y front back bf bb lt af ab = by_level (level_of o.0 == n) refl (passes_split n o)
  where
    by_level : (c : Bool) → (level_of o.0 == n) ≡ c → Splits n o → (passes (suc n) x (front ++ (o.0, y) ∷ back)).0 ≡ operated o.0 (passes (suc n) x front).0 (passes (suc n) y back).0
    by_level true e ih =
        let same = eqb-true (level_of o.0) n e in
        let af' = subst (λ m. AllFrom m front) same af in
        let nothing = none_between (suc n) back (subst (λ m. AllFrom (suc m) back) same ab) bb in
        let all_left : passes (suc n) x (front ++ (o.0, y) ∷ []) ≡ passes n (operated o.0 (pass n x front).0 y) [] = ap (λ q. passes n q.0 q.1) (pass_last n x front (o.0, y) af' bf e) in
        let no_left = none_between n (pass n x front).1 (from_pass n n x front af') (below_pass n x front bf) in
        let left : (passes (suc n) x front).0 ≡ (pass n x front).0 = ap (λ qs. (passes n (pass n x front).0 qs).0) no_left ∙ passes_nothing n (pass n x front).0 in
        let right : (passes (suc n) y back).0 ≡ y = ap (λ qs. (passes (suc n) y qs).0) nothing ∙ passes_nothing (suc n) y in
        ap (λ qs. (passes (suc n) x (front ++ (o.0, y) ∷ qs)).0) nothing
        ∙ (ap (λ q. q.0) all_left ∙ (passes_nothing n (operated o.0 (pass n x front).0 y)
        ∙ sym (ap (λ l. operated o.0 l (passes (suc n) y back).0) left ∙ ap (operated o.0 (pass n x front).0) right)))
    by_level false e ih =
        let ne = eqb-false (level_of o.0) n e in
        ap (λ q. (passes n q.0 q.1).0) (pass_split n x front (o.0, y) back e)
        ∙ ih (pass n x front).0 (pass n y back).0 (pass n x front).1 (pass n y back).1 (below_pass n x front bf) (below_pass n y back bb) (omega (arith, ne))
        (from_pass (level_of o.0) n x front af) (from_pass (suc (level_of o.0)) n y back ab)

pub grouped_split : (x : Expr) (front : List (Kind × Expr)) (o : Kind × Expr) (back : List (Kind × Expr)) → AllFrom (level_of o.0) front → AllFrom (suc (level_of o.0)) back
    → grouped x (front ++ o ∷ back) ≡ operated o.0 (grouped x front) (grouped o.1 back)
unfolding grouped Splits
grouped_split x front o back af ab = passes_split levels o x o.1 front back (all_below front) (all_below back) (level_below o.0) af ab

-- ---- the loop

weaken : (m n : ℕ) (os : List (Kind × Expr)) → m ≤ n → AllFrom n os → AllFrom m os
weaken m n [] h a = tt
weaken m n (o ∷ os) h a = let x : n ≤ level_of o.0 = a.0 in (omega arith, weaken m n os h a.1)

AllFrom-append : (n : ℕ) (xs ys : List (Kind × Expr)) → AllFrom n xs → AllFrom n ys → AllFrom n (xs ++ ys)
AllFrom-append n [] ys a b = b
AllFrom-append n (x ∷ xs) ys a b = (a.0, AllFrom-append n xs ys a.1 b)

from_next_nothing : (rest : List (Kind × Expr)) → AllFromNext [] rest
from_next_nothing [] = tt
from_next_nothing (o ∷ os) = tt

pub climbing_start : (least : ℕ) (x : Expr) (os : List (Kind × Expr)) → Climbing least x os x os
unfolding grouped
climbing_start least x os = record { taken = []; cut = refl; above = tt; next = from_next_nothing os; value = refl }

from_next : (taken : List (Kind × Expr)) (o : Kind × Expr) (more rest : List (Kind × Expr)) → AllFrom (level_of o.0) taken → AllFrom (level_of o.0 + 1) more
    → StopsBelow (level_of o.0 + 1) rest → AllFromNext (taken ++ o ∷ more) rest
from_next taken o more [] a b s = tt
from_next taken o more (p ∷ rest) a b s =
    let lt : level_of p.0 < level_of o.0 + 1 = s in
    AllFrom-append (level_of p.0) taken (o ∷ more) (weaken (level_of p.0) (level_of o.0) taken (omega arith) a) (omega arith, weaken (level_of p.0) (level_of o.0 + 1) more (omega arith) b)

pub climbing_step : (least : ℕ) (x : Expr) (os : List (Kind × Expr)) (y : Expr) (o : Kind × Expr) (rest1 : List (Kind × Expr)) (e z : Expr) (rest2 : List (Kind × Expr))
    → Climbing least x os y (o ∷ rest1) → least ≤ level_of o.0 → Climbs (level_of o.0 + 1) o.1 rest1 e rest2 → z ≡ operated o.0 y e → Climbing least x os z rest2
climbing_step least x os y o rest1 e z rest2 c h d made = record {
  taken = c.taken ++ o ∷ d.taken;
  cut = c.cut ∙ (ap (λ r. c.taken ++ o ∷ r) d.cut ∙ sym (append_assoc c.taken (o ∷ d.taken) rest2));
  above = AllFrom-append least c.taken (o ∷ d.taken) c.above (h, weaken least (level_of o.0 + 1) d.taken (omega arith) d.above);
  next = from_next c.taken o d.taken rest2 c.next d.above d.stops;
  value = made ∙ (ap (λ l. operated o.0 l e) c.value ∙ (ap (operated o.0 (grouped x c.taken)) d.value
      ∙ sym (grouped_split x c.taken o d.taken c.next (rw add-one at d.above))));
}

same_some : {A : Type 0} {a b : A} → Some a ≡ Some b → a ≡ b
same_some h = cc

pub head_is : (os : List (Kind × Expr)) (o : Kind × Expr) → slice_get os 0 ≡ Some o → os ≡ o ∷ remove os 0
head_is [] o h = cc
head_is (p ∷ os) o h = let same : p ≡ o = same_some h in ap (λ q. q ∷ os) same

pub climbing_turn : (least : ℕ) (x : Expr) (os : List (Kind × Expr)) (y : Expr) (others : List (Kind × Expr)) (seen o : Kind × Expr) (n : ℕ) (e z : Expr) (rest1 rest2 : List (Kind × Expr))
    → Climbing least x os y others → Some seen ≡ slice_get others 0 → slice_get others 0 ≡ Some o → rest1 ≡ remove others 0
    → n ≡ level_of seen.0 → least ≤ n → Climbs (n + 1) o.1 rest1 e rest2 → z ≡ operated o.0 y e → Climbing least x os z rest2
climbing_turn least x os y others seen o n e z rest1 rest2 c first item rest level h d made =
    let same : seen ≡ o = same_some (first ∙ item) in
    let level' : n ≡ level_of o.0 = level ∙ ap (λ q. level_of q.0) same in
    climbing_step least x os y o rest1 e z rest2 (subst (λ r. Climbing least x os y r) (head_is others o item ∙ ap (λ r. o ∷ r) (sym rest)) c)
    (omega arith) (subst (λ m. Climbs (m + 1) o.1 rest1 e rest2) level' d) made
