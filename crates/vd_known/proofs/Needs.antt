-- Whether all that is needed is seen, one element after the other.
use Rattle.std.proofs.Common.{◌≡◌, ℕ, zero, suc, ◌+◌, ◌<◌, ◌≤◌, Bool, true, false, cond, ◌&&◌, List, [], ◌∷◌, ◌++◌, length, take, get_or, flat_map, ℤ, None, Some, refl, ap, sym, ◌∙◌, arith}
use Rattle.std.proofs.lemmas.List.{take_more, take_all}
use Rattle.std.proofs.lemmas.List.Concat.{flat_map-append}
use Rattle.std.proofs.lemmas.List.Folds.{list_all-append, flat_map-map}
use Rattle.std.specs.List.{list_all}
use Rattle.vd_logic.specs.declared.term.Op.{Op}
use Rattle.vd_logic.specs.declared.term.Sort.{Sort}
use Rattle.vd_logic.specs.declared.term.Term.{Term, Num, Var, Named, Global, App}
use Rattle.vd_logic.specs.Layers.{fold-Num, fold-Var, fold-Named, fold-Global, fold-App}
use Rattle.vd_heads.specs.declared.table.Space.TheVariants as space
use Rattle.vd_heads.specs.Declaration.{Bytes}
use Rattle.vd_heads.specs.declared.view.View.{View}
use Rattle.vd_known.specs.Known.{Need, is_met, term_needs, term_layer}

module _ {A : Type 0} (met : Need → Bool) (needs : A → List Need) where
  pub all_more : (xs : List A) (i : ℕ) (x : A) → i < length xs → x ≡ get_or xs i x → list_all met (needs x) ≡ true → list_all met (flat_map needs (take i xs)) ≡ true → list_all met (flat_map needs (take (i + 1) xs)) ≡ true
  all_more xs i x below at e h =
      ap (λ ys. list_all met (flat_map needs ys)) (take_more xs i x below ∙ ap (λ y. take i xs ++ y ∷ []) (sym at))
      ∙ (ap (list_all met) (flat_map-append needs (take i xs) (x ∷ [])) ∙ (list_all-append met (flat_map needs (take i xs)) (needs x ++ [])
      ∙ (ap (λ b. b && list_all met (needs x ++ [])) h ∙ (list_all-append met (needs x) [] ∙ ap (λ b. b && true) e))))

  pub all_fails : (xs : List A) (i : ℕ) (x : A) → i < length xs → x ≡ get_or xs i x → list_all met (needs x) ≡ false → false ≡ list_all met (flat_map needs xs)
  all_fails [] i x below at e = absurd (omega (arith, below))
  all_fails (y ∷ xs) zero x below at e = sym (list_all-append met (needs y) (flat_map needs xs) ∙ ap (λ b. b && list_all met (flat_map needs xs)) (ap (λ z. list_all met (needs z)) (sym at) ∙ e))
  all_fails (y ∷ xs) (suc i) x below at e = sym (list_all-append met (needs y) (flat_map needs xs) ∙ (ap (λ b. list_all met (needs y) && b) (sym (all_fails xs i x (omega (arith, below)) at e)) ∙ go (list_all met (needs y)))) where
    go : (b : Bool) → b && false ≡ false
    go true = refl
    go false = refl

  pub all_end : (xs : List A) (i : ℕ) → length xs ≤ i → list_all met (flat_map needs (take i xs)) ≡ true → true ≡ list_all met (flat_map needs xs)
  all_end xs i past h = sym h ∙ ap (λ ys. list_all met (flat_map needs ys)) (take_all i xs past)

-- two lists of needs, one behind the other
pub both : (met : Need → Bool) (xs ys : List Need) (a b : Bool) → a ≡ list_all met xs → b ≡ list_all met ys → a && b ≡ list_all met (xs ++ ys)
both met xs ys a b e f = ap (λ x. x && b) e ∙ (ap (λ y. list_all met xs && y) f ∙ sym (list_all-append met xs ys))

pub met_one : (met : Need → Bool) (n : Need) → met n ≡ list_all met (n ∷ [])
met_one met n = go (met n) where
  go : (b : Bool) → b ≡ b && true
  go true = refl
  go false = refl

-- a name for which nothing stands
pub stray_fails : (view : View) (b r : Bool) (ns : List Need) → r ≡ b → r ≡ false → r ≡ list_all (is_met view) (cond b [] (None ∷ []) ++ ns)
unfolding is_met
stray_fails view b r ns e f = f ∙ ap (λ x. list_all (is_met view) (cond x [] (None ∷ []) ++ ns)) (sym f ∙ e)

-- ---- terms

pub term-Num : (n : ℤ) → term_needs (Num n) ≡ []
unfolding term_needs
term-Num n = fold-Num term_layer n

pub term-Var : (i : ℕ) (s : Sort) → term_needs (Var i s) ≡ []
unfolding term_needs
term-Var i s = fold-Var term_layer i s

pub term-Named : (n : Bytes) → term_needs (Named n) ≡ None ∷ []
unfolding term_needs
term-Named n = fold-Named term_layer n

pub term-Global : (n : Bytes) → term_needs (Global n) ≡ Some (space.Global, n) ∷ []
unfolding term_needs
term-Global n = fold-Global term_layer n

pub term-App : (op : Op) (args : List Term) → term_needs (App op args) ≡ flat_map term_needs args
unfolding term_needs
term-App op args = fold-App term_layer op args ∙ flat_map-map (λ x. x) term_needs args
