-- The first line `end`.
use Rattle.std.proofs.Common.{ℕ, suc, ◌+◌, ◌≡◌, Bool, true, false, ◌&&◌, List, [], ◌∷◌, length, get_or, drop, Option, None, Some, refl, sym, ◌∙◌, ap, arith}
use Rattle.std.specs.Prelude.{◌==◌, option_map}
use Rattle.vd_section.specs.EndLine.{begins_end, end_at}

pub and_first : (a b : Bool) → a ≡ false → (a && b) ≡ false
and_first true b h = cc
and_first false b h = refl

pub and_second : (a b : Bool) → b ≡ false → (a && b) ≡ false
and_second true b h = h
and_second false b h = refl

shifted : (n : ℕ) (o : Option ℕ) → option_map (λ k. n + k) (option_map suc o) ≡ option_map (λ k. n + 1 + k) o
shifted n None = refl
shifted n (Some k) = ap Some (omega arith)

end_other : (starts : Bool) (b : ℕ) (bs : List ℕ) → (starts && begins_end (b ∷ bs)) ≡ false → end_at starts (b ∷ bs) ≡ option_map suc (end_at (b == 10) bs)
end_other starts b bs h = rw h refl

-- what is found in all bytes, given what is found in those left
abbrev pub Seeks : List ℕ → ℕ → Bool → List ℕ → Type 0
Seeks body n starts left = (end_at true body ≡ option_map (λ k. n + k) (end_at starts left)) × (n + length left ≡ length body)

pub seeks_next : (body : List ℕ) (n d : ℕ) (starts : Bool) (left rest : List ℕ) → end_at true body ≡ option_map (λ k. n + k) (end_at starts left) → (starts && begins_end left) ≡ false → rest ≡ drop 1 left
    → end_at true body ≡ option_map (λ k. n + 1 + k) (end_at (get_or left 0 d == 10) rest)
seeks_next body n d starts [] rest s g e = s ∙ ap (λ xs. option_map (λ k. n + 1 + k) (end_at (get_or [] 0 d == 10) xs)) (sym e)
seeks_next body n d starts (b ∷ bs) rest s g e =
    s ∙ (ap (option_map (λ k. n + k)) (end_other starts b bs g) ∙ (shifted n (end_at (b == 10) bs) ∙ ap (λ xs. option_map (λ k. n + 1 + k) (end_at (b == 10) xs)) (sym e)))
