-- The search for the least race.
use Rattle.std.proofs.Common.{◌≡◌, ℕ, zero, suc, ◌+◌, ◌<◌, ◌≤◌, false, List, [], ◌∷◌, length, get_or, Option, Some, None, refl, sym, ◌∙◌, ap, ap₂, subst, arith, ◌⊎◌, inl, inr}
use Rattle.std.specs.Prelude.{slice_get}
use Rattle.std.proofs.lemmas.Bool.{cases_order, false≢true}
use Rattle.vd_clight.specs.declared.program.GlobalDef.{GlobalDef}
use Rattle.vd_mem.specs.Memory.{Block}
use Rattle.vd_machine.specs.declared.answer.Spot.{Spot}
use Rattle.vd_machine.specs.declared.frame.Thread.{Thread as KeptThread}
use Rattle.vd_machine.specs.declared.touch.Touched.{Touched}
use Rattle.vd_machine.specs.Kept.{slot_of}
use Rattle.vd_machine.specs.Race.{RaceAt, IsUpTo}
use Rattle.vd_machine.specs.Rivals.{touch_at, NoRivalBelow, NoRivalsBelow, FoundRival, FoundRivals}
use Rattle.vd_machine.specs.Thread.{System}
use Rattle.vd_machine.specs.Touches.{thread_touch, covers, clash, Clashes, IsUpToCell, IsLeastClash}
use Rattle.vd_machine.specs.Turns.{system_of}
use Rattle.vd_machine.proofs.Clashes.{clash_least}
use Rattle.vd_machine.proofs.Touching.{race_clashes, clash_races}
use Rattle.vd_machine.proofs.Turns.{slot_at}

-- what a kept thread touches
pub touches_at :
    (globals : List GlobalDef) (xs : List (Option KeptThread)) (m : List Block) (n : ℕ) (x : Option KeptThread) (t : Touched) → n < length xs → x ≡ get_or xs n x →
    t ≡ thread_touch globals (Some (slot_of x)) → t ≡ touch_at globals (system_of xs m) n
touches_at globals xs m n x t l e h = h ∙ sym (ap (λ o. thread_touch globals o) (slot_at xs n x l e))

pub absent : {A : Type 0} (xs : List A) (n : ℕ) → length xs ≤ n → slice_get xs n ≡ None
absent [] n l = refl
absent (x ∷ xs) zero l = absurd (omega arith)
absent (x ∷ xs) (suc n) l = absent xs n (omega arith)

pub none_touched : (globals : List GlobalDef) (s : System) (n b o : ℕ) → length s.threads ≤ n → covers (touch_at globals s n) b o ≡ false
none_touched globals s n b o l = ap (λ x. covers (thread_touch globals x) b o) (absent s.threads n l)

least_of : (m : List Block) (t u t' u' : Touched) (p : Option Spot) → t ≡ t' → u ≡ u' → clash m t u ≡ p → IsLeastClash p t' u' m
least_of m t u t' u' p a b e = subst (λ q. IsLeastClash q t' u' m) (sym (ap₂ (λ x y. clash m x y) a b) ∙ e) (clash_least m t' u')

below_more : (globals : List GlobalDef) (s : System) (n k : ℕ) → IsLeastClash None (touch_at globals s n) (touch_at globals s k) s.memory → NoRivalBelow globals s n k → NoRivalBelow globals s n (k + 1)
below_more globals s n k none h = λ j b o l m c. by_case j b o l m c (cases_order j k)
  where
    by_case : (j b o : ℕ) → n < j → j < k + 1 → Clashes (touch_at globals s n) (touch_at globals s j) s.memory b o → (j ≡ k) ⊎ ((j < k) ⊎ (k < j)) → ⊥
    by_case j b o l m c (inl e) = none b o (subst (λ x. Clashes (touch_at globals s n) (touch_at globals s x) s.memory b o) e c)
    by_case j b o l m c (inr (inl lt)) = h j b o l lt c
    by_case j b o l m c (inr (inr gt)) = omega arith

pub rival_more :
    (globals : List GlobalDef) (s : System) (n k : ℕ) (t u : Touched) → t ≡ touch_at globals s n → u ≡ touch_at globals s k → clash s.memory t u ≡ None →
    NoRivalBelow globals s n k → NoRivalBelow globals s n (k + 1)
rival_more globals s n k t u a b e h = below_more globals s n k (least_of s.memory t u (touch_at globals s n) (touch_at globals s k) None a b e) h

pub rival_found :
    (globals : List GlobalDef) (s : System) (n k : ℕ) (t u : Touched) (p : Spot) → n < k → k < length s.threads → t ≡ touch_at globals s n → u ≡ touch_at globals s k →
    clash s.memory t u ≡ Some p → NoRivalBelow globals s n k → FoundRival globals s n (Some (k, p))
rival_found globals s n k t u p l m a b e h = (l, (m, (h, least_of s.memory t u (touch_at globals s n) (touch_at globals s k) (Some p) a b e)))

pub rival_none : (globals : List GlobalDef) (s : System) (n k : ℕ) → length s.threads ≤ k → NoRivalBelow globals s n k → FoundRival globals s n None
rival_none globals s n k l h = λ j b o r. by_case j b o r.0 (race_clashes globals s n j b o r) (cases_order j k)
  where
    gone : (j b o : ℕ) → length s.threads ≤ j → Clashes (touch_at globals s n) (touch_at globals s j) s.memory b o → ⊥
    gone j b o g c = false≢true (sym (none_touched globals s j b o g) ∙ c.0.1.0)

    by_case : (j b o : ℕ) → n < j → Clashes (touch_at globals s n) (touch_at globals s j) s.memory b o → (j ≡ k) ⊎ ((j < k) ⊎ (k < j)) → ⊥
    by_case j b o m c (inl e) = gone j b o (omega arith) c
    by_case j b o m c (inr (inl lt)) = h j b o m lt c
    by_case j b o m c (inr (inr gt)) = gone j b o (omega arith) c

pub rivals_more : (globals : List GlobalDef) (s : System) (n : ℕ) → FoundRival globals s n None → NoRivalsBelow globals s n → NoRivalsBelow globals s (n + 1)
rivals_more globals s n none h = λ j k b o l r. by_case j k b o l r (cases_order j n)
  where
    by_case : (j k b o : ℕ) → j < n + 1 → RaceAt globals s j k b o → (j ≡ n) ⊎ ((j < n) ⊎ (n < j)) → ⊥
    by_case j k b o l r (inl e) = none k b o (subst (λ x. RaceAt globals s x k b o) e r)
    by_case j k b o l r (inr (inl lt)) = h j k b o lt r
    by_case j k b o l r (inr (inr gt)) = omega arith

pub rivals_found : (globals : List GlobalDef) (s : System) (n k : ℕ) (p : Spot) → FoundRival globals s n (Some (k, p)) → NoRivalsBelow globals s n → FoundRivals globals s (Some (n, k, p))
rivals_found globals s n k p f h = (
  f.1.0,
  record {
    race = clash_races globals s n k p.block p.offset f.0 f.1.1.1.0;
    least = λ j i b o r. by_first j i b o r (cases_order j n);
  },
)
  where
    by_second : (i b o : ℕ) → RaceAt globals s n i b o → (i ≡ k) ⊎ ((i < k) ⊎ (k < i)) → (k < i) ⊎ ((k ≡ i) × IsUpToCell p b o)
    by_second i b o r (inl e) = inr (sym e, f.1.1.1.1 b o (subst (λ x. Clashes (touch_at globals s n) (touch_at globals s x) s.memory b o) e (race_clashes globals s n i b o r)))
    by_second i b o r (inr (inl lt)) = absurd (f.1.1.0 i b o r.0 lt (race_clashes globals s n i b o r))
    by_second i b o r (inr (inr gt)) = inl gt

    by_first : (j i b o : ℕ) → RaceAt globals s j i b o → (j ≡ n) ⊎ ((j < n) ⊎ (n < j)) → IsUpTo n k p.block p.offset j i b o
    by_first j i b o r (inl e) = inr (sym e, by_second i b o (subst (λ x. RaceAt globals s x i b o) e r) (cases_order i k))
    by_first j i b o r (inr (inl lt)) = absurd (h j i b o lt r)
    by_first j i b o r (inr (inr gt)) = inl gt

pub rivals_none : (globals : List GlobalDef) (s : System) (n : ℕ) → length s.threads ≤ n → NoRivalsBelow globals s n → FoundRivals globals s None
rivals_none globals s n l h = λ j k b o r. by_case j k b o r (cases_order j n)
  where
    gone : (j k b o : ℕ) → length s.threads ≤ j → RaceAt globals s j k b o → ⊥
    gone j k b o g r = false≢true (sym (none_touched globals s j b o g) ∙ (race_clashes globals s j k b o r).0.0)

    by_case : (j k b o : ℕ) → RaceAt globals s j k b o → (j ≡ n) ⊎ ((j < n) ⊎ (n < j)) → ⊥
    by_case j k b o r (inl e) = gone j k b o (omega arith) r
    by_case j k b o r (inr (inl lt)) = h j k b o lt r
    by_case j k b o r (inr (inr gt)) = gone j k b o (omega arith) r
