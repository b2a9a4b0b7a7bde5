-- Runs of bytes.
use Rattle.std.proofs.Common.{ℕ, zero, suc, ◌+◌, ◌<◌, ◌≤◌, ◌≡◌, Bool, true, false, ◌||◌, List, [], ◌∷◌, ◌++◌, length, take, drop, get_or, refl, sym, ◌∙◌, ap, subst, arith}
use Rattle.std.specs.Prelude.{◌==◌}
use Rattle.std.proofs.lemmas.Bool.{eqb-true}
use Rattle.vd_tokens.specs.Bytes.{AllBytes}
use Rattle.vd_tokens.specs.Text.{has_close, starts_close}
use Rattle.vd_tokens.specs.Head.{ClosesAt}
use Rattle.vd_tokens.specs.Shapes.{and_parts, or_false}

pub all_take : (p : ℕ → Bool) (bs : List ℕ) (n : ℕ) → n < length bs → AllBytes p (take n bs) → p (get_or bs n 0) ≡ true → AllBytes p (take (suc n) bs)
all_take p [] n h a t = absurd (omega arith)
all_take p (b ∷ bs) zero h a t = (t, tt)
all_take p (b ∷ bs) (suc n) h a t = (a.0, all_take p bs n (omega arith) a.1 t)

both_false : (a b : Bool) → a ≡ false → b ≡ false → (a || b) ≡ false
both_false a b h g = rw h g

pub close_start : (bs : List ℕ) → has_close (take 1 bs) ≡ false
close_start [] = refl
close_start (b ∷ bs) = refl

starts_same : (b : ℕ) (bs : List ℕ) (n : ℕ) → starts_close (b ∷ take (suc (suc n)) bs) ≡ starts_close (b ∷ take (suc n) bs)
starts_same b [] n = refl
starts_same b (c ∷ bs) n = refl

pub close_step : (bs : List ℕ) (n : ℕ) → has_close (take (suc n) bs) ≡ false → starts_close (drop n bs) ≡ false → has_close (take (suc (suc n)) bs) ≡ false
close_step [] n h s = refl
close_step (b ∷ []) zero h s = refl
close_step (b ∷ c ∷ bs) zero h s = both_false (starts_close (b ∷ c ∷ [])) (has_close (c ∷ [])) s refl
close_step (b ∷ bs) (suc n) h s =
    let p = or_false (starts_close (b ∷ take (suc n) bs)) (has_close (take (suc n) bs)) h in
    both_false (starts_close (b ∷ take (suc (suc n)) bs)) (has_close (take (suc (suc n)) bs)) (starts_same b bs n ∙ p.0) (close_step bs n p.1 s)

take_whole : (bs : List ℕ) (n : ℕ) → length bs ≤ n → take n bs ≡ bs
take_whole [] zero h = refl
take_whole [] (suc n) h = refl
take_whole (b ∷ bs) zero h = absurd (omega arith)
take_whole (b ∷ bs) (suc n) h = ap (λ q. b ∷ q) (take_whole bs n (omega arith))

pub close_end : (bs : List ℕ) (n : ℕ) → length bs ≤ n → has_close (take n bs) ≡ false → has_close bs ≡ false
close_end [] n h g = refl
close_end (b ∷ bs) zero h g = absurd (omega arith)
close_end (b ∷ bs) (suc n) h g = subst (λ q. has_close q ≡ false) (take_whole (b ∷ bs) (suc n) h) g

pub two_of : (bs : List ℕ) (n : ℕ) → starts_close (drop n bs) ≡ true → bs ≡ take n bs ++ 42 ∷ 47 ∷ drop (suc (suc n)) bs
two_of [] zero s = cc
two_of [] (suc n) s = cc
two_of (b ∷ []) zero s = cc
two_of (b ∷ c ∷ bs) zero s =
    let p = and_parts (b == 42) (c == 47) s in
    let x : b ≡ 42 = eqb-true b 42 p.0 in
    let y : c ≡ 47 = eqb-true c 47 p.1 in
    cc
two_of (b ∷ bs) (suc n) s = ap (λ q. b ∷ q) (two_of bs n s)

take_snoc : (bs : List ℕ) (n : ℕ) → starts_close (drop n bs) ≡ true → take (suc n) bs ≡ take n bs ++ 42 ∷ []
take_snoc [] zero s = cc
take_snoc [] (suc n) s = cc
take_snoc (b ∷ []) zero s = cc
take_snoc (b ∷ c ∷ bs) zero s = let x : b ≡ 42 = eqb-true b 42 (and_parts (b == 42) (c == 47) s).0 in ap (λ z. z ∷ []) x
take_snoc (b ∷ bs) (suc n) s = ap (λ q. b ∷ q) (take_snoc bs n s)

two_more : (n : ℕ) → suc (suc n) ≡ n + 2
two_more n = omega arith

pub closes_at : (bs : List ℕ) (n : ℕ) → starts_close (drop n bs) ≡ true → has_close (take (suc n) bs) ≡ false → ClosesAt bs n
closes_at bs n s h = record {
  cut = subst (λ m. bs ≡ take n bs ++ 42 ∷ 47 ∷ drop m bs) (two_more n) (two_of bs n s);
  first = ap has_close (sym (take_snoc bs n s)) ∙ h;
}
