-- Sets of names, with one more.
use Rattle.std.proofs.Common.{◌≡◌, Bool, true, false, ◌||◌, List, [], ◌∷◌, ◌++◌, map, Bor, refl, ap, sym, ◌∙◌}
use Rattle.std.proofs.lemmas.List.{map-append}
use Rattle.std.proofs.lemmas.List.Folds.{list_any-append}
use Rattle.std.proofs.lemmas.Map.Lookups.{exact_bytes}
use Rattle.std.proofs.lemmas.Map.Text.{is_eq-slice_cmp}
use Rattle.std.specs.BTreeMap.{is_at}
use Rattle.std.specs.BTreeSet.{insert_key}
use Rattle.std.specs.Cmp.Lexicographic.{slice_cmp}
use Rattle.std.specs.declared.cmp.Ordering.{Ordering}
use Rattle.std.specs.declared.cmp.Ordering.TheVariants as ordering
use Rattle.std.specs.List.{list_any}
use Rattle.std.specs.Ordering.{nat_cmp, is_eq, match_ordering}
use Rattle.std.specs.Str.{bytes_eq}
use Rattle.vd_heads.specs.Declaration.{Bytes}

abbrev pub key_order : Bor Bytes → Bor Bytes → Ordering
key_order x y = slice_cmp nat_cmp x.now y.now

abbrev pub among : Bytes → List (Bor Bytes) → Bool
among name keys = list_any (is_at (λ k. slice_cmp nat_cmp name k.now)) keys

same_twice : (a b : Bool) → a || b ≡ a || (a || b)
same_twice true b = refl
same_twice false b = refl

swapped : (a b c : Bool) → a || (b || c) ≡ b || (a || c)
swapped true true c = refl
swapped true false c = refl
swapped false b c = refl

-- what an ordered list of keys has with one more key
pub among_more : (name : Bytes) (key : Bor Bytes) (keys : List (Bor Bytes)) → among name (insert_key key_order keys key) ≡ bytes_eq name key.now || among name keys
among_more name key [] = ap (λ b. b || false) (is_eq-slice_cmp name key.now)
among_more name key (x ∷ xs) = go (key_order key x) refl (among_more name key xs) where
  own : is_eq (slice_cmp nat_cmp name key.now) ≡ bytes_eq name key.now
  own = is_eq-slice_cmp name key.now

  go : (o : Ordering) → key_order key x ≡ o → among name (insert_key key_order xs key) ≡ bytes_eq name key.now || among name xs
      → among name (match_ordering o (key ∷ x ∷ xs) (x ∷ xs) (x ∷ insert_key key_order xs key)) ≡ bytes_eq name key.now || among name (x ∷ xs)
  go ordering.Less e h = ap (λ b. b || among name (x ∷ xs)) own
  go ordering.Equal e h =
      let same : is_eq (slice_cmp nat_cmp name key.now) ≡ is_eq (slice_cmp nat_cmp name x.now) = ap (λ y. is_eq (slice_cmp nat_cmp name y)) (exact_bytes key.now x.now e) in
      same_twice (is_eq (slice_cmp nat_cmp name x.now)) (among name xs) ∙ ap (λ b. b || among name (x ∷ xs)) (sym same ∙ own)
  go ordering.Greater e h = ap (λ b. is_eq (slice_cmp nat_cmp name x.now) || b) h ∙ swapped (is_eq (slice_cmp nat_cmp name x.now)) (bytes_eq name key.now) (among name xs)

-- what a set finds once a name is put behind others
pub found_more : (name : Bytes) (key : Bor Bytes) (keys new : List (Bor Bytes)) (listed more : List (Bor Bytes)) → new ≡ insert_key key_order keys key → more ≡ listed ++ key ∷ [] → among name keys ≡ list_any (bytes_eq name) (map (λ k. k.now) listed)
    → among name new ≡ list_any (bytes_eq name) (map (λ k. k.now) more)
found_more name key keys new listed more e f h =
    ap (among name) e ∙ (among_more name key keys ∙ (ap (λ b. bytes_eq name key.now || b) h ∙ (swap (bytes_eq name key.now) (list_any (bytes_eq name) (map (λ k. k.now) listed))
    ∙ sym (ap (λ ks. list_any (bytes_eq name) (map (λ k. k.now) ks)) f ∙ (ap (list_any (bytes_eq name)) (map-append (λ k. k.now) listed (key ∷ [])) ∙ list_any-append (bytes_eq name) (map (λ k. k.now) listed) (key.now ∷ [])))))) where
      swap : (a b : Bool) → a || b ≡ b || (a || false)
      swap true true = refl
      swap true false = refl
      swap false true = refl
      swap false false = refl
