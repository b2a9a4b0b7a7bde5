-- A share of one kind at one place.
use Rattle.std.proofs.Common.{◌≡◌, ℕ, ◌+◌, ◌≤◌, ◌&&◌, nat_eq, Bool, true, false, cond, refl, ap, arith}
use Rattle.std.proofs.lemmas.Bool.{and_parts, and_from, eqb-true, eq-eqb}
use Rattle.vd_meaning.specs.Shares.{Kind, same_kind, single}
use Rattle.vd_meaning.proofs.Tests.{same_kind-is, same_kind-itself}

-- where a share is, it is the one
pub single-is : (b o : ℕ) (k : Kind) (s c p : ℕ) (j : Kind) → 1 ≤ single b o k s c p j → (b ≡ c) × ((o ≡ p) × (k ≡ j))
single-is b o k s c p j h = by (nat_eq b c && (nat_eq o p && same_kind k j)) refl h
  where
    by : (t : Bool) → (nat_eq b c && (nat_eq o p && same_kind k j)) ≡ t → 1 ≤ cond t s 0 → (b ≡ c) × ((o ≡ p) × (k ≡ j))
    by true e g =
        let x = and_parts (nat_eq b c) (nat_eq o p && same_kind k j) e in
        let y = and_parts (nat_eq o p) (same_kind k j) x.1 in
        (eqb-true b c x.0, (eqb-true o p y.0, same_kind-is k j y.1))
    by false e g = absurd (omega arith)

pub single-most : (b o : ℕ) (k : Kind) (s c p : ℕ) (j : Kind) → single b o k s c p j ≤ s
single-most b o k s c p j = by (nat_eq b c && (nat_eq o p && same_kind k j))
  where
    by : (t : Bool) → cond t s 0 ≤ s
    by true = omega arith
    by false = omega arith

pub single-here : (b o : ℕ) (k : Kind) (s : ℕ) → single b o k s b o k ≡ s
single-here b o k s =
    ap (λ t. cond t s 0)
    (and_from (nat_eq b b) (nat_eq o o && same_kind k k) (eq-eqb b b refl) (and_from (nat_eq o o) (same_kind k k) (eq-eqb o o refl) (same_kind-itself k)))

pub single-sum : (b o : ℕ) (k : Kind) (s t c p : ℕ) (j : Kind) → single b o k (s + t) c p j ≡ single b o k s c p j + single b o k t c p j
single-sum b o k s t c p j = by (nat_eq b c && (nat_eq o p && same_kind k j))
  where
    by : (x : Bool) → cond x (s + t) 0 ≡ cond x s 0 + cond x t 0
    by true = refl
    by false = refl
