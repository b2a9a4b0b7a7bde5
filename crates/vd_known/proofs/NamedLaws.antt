-- Something is so of none of the first names of a set.
use Rattle.std.proofs.Common.{◌≡◌, ℕ, ◌+◌, ◌<◌, ◌≤◌, true, List, length, map, get_or, Bor, refl, ap, sym, ◌∙◌, subst}
use Rattle.std.proofs.lemmas.Option.{slice_get-get_or}
use Rattle.std.proofs.lemmas.Slice.Eq.{bytes_eq-Decides}
use Rattle.std.specs.List.{list_any}
use Rattle.std.specs.Str.{bytes_eq}
use Rattle.vd_heads.specs.Declaration.{Bytes}
use Rattle.vd_known.proofs.ItemLaws as items
use Rattle.vd_known.proofs.ItemLaws.{NoneOf, any_at, at_any, any_map}

abbrev pub NoneBefore : (Bytes → Type 0) → List (Bor Bytes) → ℕ → Type 0
NoneBefore P ks n = NoneOf (λ b. P b.now) ks n

pub none_start : (P : Bytes → Type 0) (ks : List (Bor Bytes)) → NoneBefore P ks 0
none_start P ks = items.none_start (λ b. P b.now) ks

pub none_next : (P : Bytes → Type 0) (ks : List (Bor Bytes)) (n : ℕ) (d : Bor Bytes) → NoneBefore P ks n → n < length ks → (P (get_or ks n d).now → ⊥) → NoneBefore P ks (n + 1)
none_next P ks n d before below not = items.none_next (λ b. P b.now) ks n (get_or ks n d) (slice_get-get_or ks n d below) before not

pub none_all : (P : Bytes → Type 0) (ks listed : List (Bor Bytes)) (n : ℕ) → ks ≡ listed → length ks ≤ n → NoneBefore P ks n → (f : Bytes) → list_any (bytes_eq f) (map (λ k. k.now) listed) ≡ true → P f → ⊥
none_all P ks listed n same past none f e p =
    let r = any_at (λ b. bytes_eq f b.now) ks (sym (any_map (bytes_eq f) (λ b. b.now) ks) ∙ (ap (λ x. list_any (bytes_eq f) (map (λ k. k.now) x)) same ∙ e)) in
    items.none_end (λ b. P b.now) ks n past none r.0 r.1 r.2 (subst P ((bytes_eq-Decides f r.1.now).0 r.3) p)

pub key_listed : (ks listed : List (Bor Bytes)) (n : ℕ) (d : Bor Bytes) → ks ≡ listed → n < length ks → list_any (bytes_eq (get_or ks n d).now) (map (λ k. k.now) listed) ≡ true
key_listed ks listed n d same below =
    let key = get_or ks n d in
    ap (λ x. list_any (bytes_eq key.now) (map (λ k. k.now) x)) (sym same)
    ∙ (any_map (bytes_eq key.now) (λ b. b.now) ks ∙ at_any (λ b. bytes_eq key.now b.now) ks n key (slice_get-get_or ks n d below) ((bytes_eq-Decides key.now key.now).1 refl))
