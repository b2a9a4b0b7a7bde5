-- Well-sorted terms with other terms in the places of their variables: the one lemma, of which agreement, substitution and opening are uses.
use Rattle.std.proofs.Common.{◌≡◌, ℕ, Option, Some, None, List, [], ◌∷◌, map, refl, sym, ap, ap₂, ◌∙◌, subst}
use Rattle.std.specs.Prelude.{slice_get}
use Rattle.vd_logic.specs.declared.term.Sort.{Sort}
use Rattle.vd_logic.specs.declared.term.Sort.TheVariants as sort
use Rattle.vd_logic.specs.declared.assertion.Rel as relation
use Rattle.vd_logic.specs.declared.assertion.Rel.TheVariants as rel
use Rattle.vd_terms.specs.declared.assertion.FactOf.TheVariants as fact
use Rattle.vd_terms.specs.declared.assertion.ItemOf.TheVariants as item
use Rattle.vd_terms.specs.Terms.{Term, Var, Named}
use Rattle.vd_terms.specs.Terms as term
use Rattle.vd_terms.specs.Sorts.{unary_sorts, binary_sorts, ternary_sorts}
use Rattle.vd_terms.specs.Assertions.{Fact, Item, Predicate, Scope, predicate_named, map_fact, map_item}
use Rattle.vd_terms.specs.Replacing.{replaced}
use Rattle.vd_terms.specs.Typed.{Any, IsTerm, AreTerms, AreRelated, IsFact, AreFacts, HasArguments, IsItem, AreItems}
use Rattle.vd_terms.proofs.TypedLemmas.{closed-any}
use Rattle.vd_meaning.specs.Values.{as_int, as_val, as_list}
use Rattle.vd_meaning.specs.Operations.{one, two, three}
use Rattle.vd_meaning.specs.Meaning.{World, Valuation, variable, meaning, int_of, list_of}
use Rattle.vd_meaning.specs.Facts.{IsInt, IsPtr, IsEach, Compares, IsTrueFact, AreTrue}
use Rattle.vd_meaning.specs.Satisfaction.{ground, grounds}

-- where each variable of the term has, in its place, a term of its sort that means under w what the variable means under z, so it is of the
-- whole term
module _ (world : World) (w z : Valuation) (own vars : List Sort) (f : ℕ → Sort → Term)
    (variables : (x : ℕ) (s : Sort) → slice_get own x ≡ Some s → IsTerm Any vars s (f x s) × (meaning world w (f x s) ≡ variable z x s)) where
  abbrev pub put : Term → Term
  put t = replaced f Named t

  pub put-is : (t : Term) (s : Sort) → IsTerm Any own s t → IsTerm Any vars s (put t) × (meaning world w (put t) ≡ meaning world z t)
  put-is (term.Number n) s h = (h, refl)
  put-is (term.Var x r) s h = let v = variables x r h.1 in (subst (λ q. IsTerm Any vars q (f x r)) (sym h.0) v.0, v.1)
  put-is (term.Named name) s h = absurd h
  put-is (term.Global g) s h = (h, refl)
  put-is term.Undef s h = (h, refl)
  put-is term.Nil s h = (h, refl)
  put-is (term.Of o a) s h = let p = put-is a (unary_sorts o).0 h.1.0 in ((h.0, (p.0, closed-any o (put a))), ap (one o) p.1)
  put-is (term.Of2 o a b) s h =
      let p = put-is a (binary_sorts o).0 h.1.0 in
      let q = put-is b (binary_sorts o).1 h.1.1 in
      ((h.0, (p.0, q.0)), ap₂ (two o) p.1 q.1)
  put-is (term.Of3 o a b c) s h =
      let p = put-is a (ternary_sorts o).0 h.1.0 in
      let q = put-is b (ternary_sorts o).1 h.1.1.0 in
      let r = put-is c (ternary_sorts o).2 h.1.1.1 in
      ((h.0, (p.0, (q.0, r.0))), ap₂ (λ x y. three o x y (meaning world w (put c))) p.1 q.1 ∙ ap (three o (meaning world z a) (meaning world z b)) r.1)

  related : (r : relation.Rel) (a b : Term) → AreRelated Any own r a b →
      IsTrueFact world w (fact.Rel r (put a) (put b)) ≡ IsTrueFact world z (fact.Rel r a b)
  related rel.Eq a b h = ap₂ (λ x y. x ≡ y) (put-is a h.0 h.1.0).1 (put-is b h.0 h.1.1).1
  related rel.Ne a b h = ap₂ (λ x y. Compares rel.Ne x y) (put-is a h.0 h.1.0).1 (put-is b h.0 h.1.1).1
  related rel.Le a b h = ap₂ (λ x y. Compares rel.Le x y) (put-is a sort.Int h.0).1 (put-is b sort.Int h.1).1
  related rel.Lt a b h = ap₂ (λ x y. Compares rel.Lt x y) (put-is a sort.Int h.0).1 (put-is b sort.Int h.1).1

  fact-same : (p : Fact) → IsFact Any own p → IsTrueFact world w (map_fact put p) ≡ IsTrueFact world z p
  fact-same (fact.Rel r a b) h = related r a b h
  fact-same (fact.IsInt a) h = ap (λ x. IsInt (as_val x)) (put-is a sort.Val h).1
  fact-same (fact.IsPtr a) h = ap (λ x. IsPtr (as_val x)) (put-is a sort.Val h).1
  fact-same (fact.Each l a b) h =
      ap₂ (λ x y. IsEach (as_list x) (as_int y) (int_of world w (put b))) (put-is l sort.List h.0).1 (put-is a sort.Int h.1.0).1
      ∙ ap (λ y. IsEach (list_of world z l) (int_of world z a) (as_int y)) (put-is b sort.Int h.1.1).1

  pub facts-go : (ps : List Fact) → AreFacts Any own ps → AreTrue world w (map (map_fact put) ps) → AreTrue world z ps
  facts-go [] h x = tt
  facts-go (p ∷ ps) h x = (subst (λ X. X) (fact-same p h.0) x.0, facts-go ps h.1 x.1)

  pub facts-come : (ps : List Fact) → AreFacts Any own ps → AreTrue world z ps → AreTrue world w (map (map_fact put) ps)
  facts-come [] h x = tt
  facts-come (p ∷ ps) h x = (subst (λ X. X) (sym (fact-same p h.0)) x.0, facts-come ps h.1 x.1)

  args-same : (ss : List Sort) (ts : List Term) → AreTerms Any own ss ts → map (meaning world w) (map put ts) ≡ map (meaning world z) ts
  args-same [] [] h = refl
  args-same [] (t ∷ ts) h = absurd h
  args-same (s ∷ ss) [] h = absurd h
  args-same (s ∷ ss) (t ∷ ts) h = ap₂ (λ x xs. x ∷ xs) (put-is t s h.0).1 (args-same ss ts h.1)

  label-same : (p : Option Predicate) (ts : List Term) → HasArguments Any own p ts → map (meaning world w) (map put ts) ≡ map (meaning world z) ts
  label-same None ts h = absurd h
  label-same (Some p) ts h = args-same p.args ts h

  module _ (scope : Scope) where
    item-same : (i : Item) → IsItem Any scope own i → ground world w (map_item put i) ≡ ground world z i
    item-same (item.Data s p l) h =
        let a = (put-is s sort.Int h.0).1 in
        let b = (put-is p sort.Val h.1.0).1 in
        let c = (put-is l sort.List h.1.1).1 in cc
    item-same (item.Lock s p l) h =
        let a = (put-is s sort.Int h.0).1 in
        let b = (put-is p sort.Val h.1.0).1 in
        let c = label-same (predicate_named scope l.name) l.args h.1.1 in cc
    item-same (item.Holds p l) h =
        let b = (put-is p sort.Val h.0).1 in
        let c = label-same (predicate_named scope l.name) l.args h.1 in cc
    item-same (item.Token p n) h =
        let a = (put-is p sort.Val h.0).1 in
        let b = (put-is n sort.Int h.1).1 in cc
    item-same (item.Pred l) h = let c = label-same (predicate_named scope l.name) l.args h in cc

    pub items-same : (is : List Item) → AreItems Any scope own is → grounds world w (map (map_item put) is) ≡ grounds world z is
    items-same [] h = refl
    items-same (i ∷ is) h = ap₂ (λ x xs. x ∷ xs) (item-same i h.0) (items-same is h.1)
