-- Substitution and opening: terms in the places of the variables that stand for them.
use Rattle.std.proofs.Common.{◌≡◌, ℕ, zero, suc, ◌+◌, ◌-◌, ◌<◌, ◌≤◌, cond, Some, List, [], ◌∷◌, ◌++◌, map, length, refl, sym, ap, ◌∙◌, subst, arith, lt-ltb, le-ltb}
use Rattle.std.specs.Prelude.{slice_get, slice_index_or}
use native.Mathlib.Decide.{dec_lt}
use Rattle.vd_logic.specs.declared.term.Sort.{Sort}
use Rattle.vd_logic.specs.declared.term.Sort.TheVariants as sort
use Rattle.vd_terms.specs.Terms.{Term, Var}
use Rattle.vd_terms.specs.Replacing.{term_at, in_place}
use Rattle.vd_terms.specs.Typed.{Any, IsTerm, AreTerms}
use Rattle.vd_meaning.specs.Values.{Arg, OfInt, OfVal, OfList, HasSort}
use Rattle.vd_meaning.specs.Meaning.{World, Valuation, Agree, StandsFor, StandFor, variable, meaning}
use Rattle.vd_meaning.specs.MeaningLaws.{SubstitutedTerms, OpenedTerms, OpenedFacts, OpenedItems}
use Rattle.vd_meaning.proofs.TermSorts.{sorts_are_kept}
use Rattle.vd_meaning.proofs.Replacement.{put-is, facts-go, facts-come, items-same}
use Rattle.vd_meaning.proofs.Agreement.{variable-agree}

some-same : {A : Type 0} {x y : A} → Some x ≡ Some y → x ≡ y
some-same e = cc

pub stands-variable : (z : Valuation) (x : ℕ) (a : Arg) (s : Sort) → HasSort s a → StandsFor z x a → variable z x s ≡ a
stands-variable z x (OfInt i) sort.Int h g = ap OfInt g
stands-variable z x (OfInt i) sort.Val h g = absurd h
stands-variable z x (OfInt i) sort.List h g = absurd h
stands-variable z x (OfVal v) sort.Int h g = absurd h
stands-variable z x (OfVal v) sort.Val h g = ap OfVal g
stands-variable z x (OfVal v) sort.List h g = absurd h
stands-variable z x (OfList l) sort.Int h g = absurd h
stands-variable z x (OfList l) sort.Val h g = absurd h
stands-variable z x (OfList l) sort.List h g = ap OfList g

-- the term at a place has the sort there, and the variable that stands for it means what it means
module _ (world : World) (w z : Valuation) (vars : List Sort) where
  at-place : (own : List Sort) (ts : List Term) (n j k : ℕ) (d : Term) (s : Sort) → AreTerms Any vars own ts → StandFor z n (map (meaning world w) ts) →
      slice_get own j ≡ Some s → k ≡ n + j → IsTerm Any vars s (slice_index_or ts j d) × (meaning world w (slice_index_or ts j d) ≡ variable z k s)
  at-place [] ts n j k d s h g e q = cc
  at-place (r ∷ own) [] n j k d s h g e q = absurd h
  at-place (r ∷ own) (t ∷ ts) n zero k d s h g e q =
      let so : IsTerm Any vars s t = subst (λ p. IsTerm Any vars p t) (some-same e) h.0 in
      let f : n ≡ k = omega (arith, q) in
      (so, sym (subst (λ i. variable z i s ≡ meaning world w t) f (stands-variable z n (meaning world w t) s (sorts_are_kept world w vars s t so) g.0)))
  at-place (r ∷ own) (t ∷ ts) n (suc j) k d s h g e q = at-place own ts (suc n) j k d s h.1 g.1 e (omega (arith, q))

  pub substituted-variable : (own : List Sort) (ts : List Term) → AreTerms Any vars own ts → StandFor z 0 (map (meaning world w) ts) →
      (x : ℕ) (s : Sort) → slice_get own x ≡ Some s → IsTerm Any vars s (term_at ts x s) × (meaning world w (term_at ts x s) ≡ variable z x s)
  substituted-variable own ts h g x s e = at-place own ts 0 x x (Var x s) s h g e (let q : x ≡ 0 + x = omega arith in q)

pub substituted_terms : SubstitutedTerms
substituted_terms world vars own ts h w z g s t k = put-is world w z own vars (term_at ts) (substituted-variable world w z vars own ts h g) t s k

-- ---- opening

get-front : {A : Type 0} (xs ys : List A) (x : ℕ) → x < length xs → slice_get (xs ++ ys) x ≡ slice_get xs x
get-front [] ys x h = absurd (omega arith)
get-front (a ∷ xs) ys zero h = refl
get-front (a ∷ xs) ys (suc x) h = get-front xs ys x (omega arith)

get-behind : {A : Type 0} (xs ys : List A) (x : ℕ) → length xs ≤ x → slice_get (xs ++ ys) x ≡ slice_get ys (x - length xs)
get-behind [] ys x h = ap (slice_get ys) (let e : x ≡ x - 0 = omega arith in e)
get-behind (a ∷ xs) ys zero h = absurd (omega arith)
get-behind (a ∷ xs) ys (suc x) h =
    get-behind xs ys x (omega arith) ∙ ap (slice_get ys) (let e : x - length xs ≡ suc x - suc (length xs) = omega arith in e)

module _ (world : World) (before after own : List Sort) (ts : List Term) (h : AreTerms Any (before ++ after) own ts)
    (w z : Valuation) (a : Agree (length before) w z) (g : StandFor z (length before) (map (meaning world w) ts)) where
  abbrev place : ℕ → Sort → Term
  place = in_place (length before) ts

  place-old : (x : ℕ) (s : Sort) → x < length before → place x s ≡ Var x s
  place-old x s l = ap (λ c. cond c (Var x s) (slice_index_or ts (x - length before) (Var x s))) (lt-ltb x (length before) l)

  place-new : (x : ℕ) (s : Sort) → length before ≤ x → place x s ≡ slice_index_or ts (x - length before) (Var x s)
  place-new x s l = ap (λ c. cond c (Var x s) (slice_index_or ts (x - length before) (Var x s))) (le-ltb x (length before) l)

  abbrev Placed : ℕ → Sort → Term → Type 0
  Placed x s t = IsTerm Any (before ++ after) s t × (meaning world w t ≡ variable z x s)

  pub opened-variable : (x : ℕ) (s : Sort) → slice_get (before ++ own) x ≡ Some s → Placed x s (place x s)
  opened-variable x s e = by (dec_lt x (length before))
    where
      by : Dec (x < length before) → Placed x s (place x s)
      by (yes l) =
          let f : slice_get (before ++ after) x ≡ Some s = get-front before after x l ∙ sym (get-front before own x l) ∙ e in
          subst (Placed x s) (sym (place-old x s l)) ((refl, f), variable-agree (length before) w z a x s l)
      by (no l) =
          let m : length before ≤ x = omega arith in
          let f : slice_get own (x - length before) ≡ Some s = sym (get-behind before own x m) ∙ e in
          let q : x ≡ length before + (x - length before) = omega arith in
          subst (Placed x s) (sym (place-new x s m))
          (at-place world w z (before ++ after) own ts (length before) (x - length before) x (Var x s) s h g f q)

pub opened_terms : OpenedTerms
opened_terms world before after own ts h w z a g s t k =
    put-is world w z (before ++ own) (before ++ after) (in_place (length before) ts) (opened-variable world before after own ts h w z a g) t s k

pub opened_facts : OpenedFacts
opened_facts world before after own ts h w z a g ps k =
    let v = opened-variable world before after own ts h w z a g in (
      facts-go world w z (before ++ own) (before ++ after) (in_place (length before) ts) v ps k,
      facts-come world w z (before ++ own) (before ++ after) (in_place (length before) ts) v ps k,
    )

pub opened_items : OpenedItems
opened_items world before after own ts h w z a g scope is k =
    items-same world w z (before ++ own) (before ++ after) (in_place (length before) ts) (opened-variable world before after own ts h w z a g) scope is k
