-- How passes are joined.
use Rattle.std.proofs.Common.{◌≡◌, ◌≢◌, ℕ, ◌≤◌, ◌⊎◌, Bool, true, false, List, [], ◌∷◌, length, refl, ap, sym, ◌∙◌, subst, inl, inr, ⊎_elim, arith, le_refl}
use Rattle.std.specs.Prelude.{ltb, if◌then◌else◌}
use Rattle.std.specs.List.{Contains}
use Rattle.std.proofs.lemmas.Bool.{ltb-true, ltb-false}
use Rattle.std.proofs.lemmas.List.Elements.{Contains-append_left, Contains-append_right}
use mathlib.Core.List.{IsPrefix}
use Rattle.vd_gate.specs.declared.story.PastTurn.{PastTurn}
use Rattle.vd_gate.specs.declared.view.View.{View}
use Rattle.vd_gate.specs.declared.pass.GatePass.{GatePass}
use Rattle.vd_gate.specs.Views.{longer, joined_view, without_told}
use Rattle.vd_gate.specs.Passes.{IsFree, number_of, seen_of, mine_of, TakesOver, KnowsAllOf}
use Rattle.vd_gate.proofs.Lists.{prefix_trans, contains_first, contains_rest}

longer_by_test : {E : Type 0} (b : Bool) (xs ys : List (PastTurn E)) → ltb (length xs) (length ys) ≡ b → (length xs ≤ length (if b then ys else xs)) × (length ys ≤ length (if b then ys else xs))
longer_by_test true xs ys e = let lt = ltb-true (length xs) (length ys) e in (omega arith, le_refl (length ys))
longer_by_test false xs ys e = let le = ltb-false (length xs) (length ys) e in (le_refl (length xs), le)

longer_than_both : {E : Type 0} (xs ys : List (PastTurn E)) → (length xs ≤ length (longer xs ys)) × (length ys ≤ length (longer xs ys))
longer_than_both xs ys = longer_by_test (ltb (length xs) (length ys)) xs ys refl

module _ {S E : Type 0} where
  pub takes_over_of : (p o q : GatePass S E) (k : View E) → number_of q ≡ number_of p → k ≡ joined_view p.seat.me.0 o.seat.me.0 → q.seat.me.0 ≡ without_told k
      → ((xs : List (PastTurn E)) → Contains k.told xs → length xs ≤ length k.seen → IsPrefix xs k.seen) → TakesOver p o q
  takes_over_of p o q k same both after told =
      let v : View E = p.seat.me.0 in
      let w : View E = o.seat.me.0 in
      let view : q.seat.me.0 ≡ without_told (joined_view v w) = after ∙ ap without_told both in
      let seen : q.seat.me.0.seen ≡ longer v.seen w.seen = ap (λ (u : View E). u.seen) view in
      let learn : (xs : List (PastTurn E)) → Contains (v.seen ∷ w.seen ∷ []) xs → length xs ≤ length (longer v.seen w.seen) → IsPrefix xs (longer v.seen w.seen) =
      subst (λ (u : View E). (xs : List (PastTurn E)) → Contains u.told xs → length xs ≤ length u.seen → IsPrefix xs u.seen) both told in
      let size = longer_than_both v.seen w.seen in record {
        number = same;
        base_is = ap (λ (u : View E). u.base) view;
        seen = seen;
        own = subst (λ (l : List (PastTurn E)). IsPrefix v.seen l) (sym seen) (learn v.seen (contains_first v.seen (w.seen ∷ [])) size.0);
        other = subst (λ (l : List (PastTurn E)). IsPrefix w.seen l) (sym seen) (learn w.seen (contains_rest v.seen w.seen (w.seen ∷ []) (contains_first w.seen [])) size.1);
        mine = ap (λ (u : View E). u.mine) view;
        blank = ap (λ (u : View E). u.blank) view;
        made = ap (λ (u : View E). u.made) view;
      }

  -- what either knew is known after a join
  pub knows_all_of_own : (p o q : GatePass S E) → TakesOver p o q → KnowsAllOf q p
  knows_all_of_own p o q t = record {
    seen = t.own;
    mine = λ n es c. subst (λ (l : List (ℕ × List E)). Contains l (n, es)) (sym t.mine) (Contains-append_left (mine_of p) (mine_of o) (n, es) c);
    first = λ z. t.number ∙ z;
  }

  pub knows_all_of_other : (p o q : GatePass S E) → TakesOver p o q → (number_of o ≡ 0 → number_of p ≡ 0) → KnowsAllOf q o
  knows_all_of_other p o q t first = record {
    seen = t.other;
    mine = λ n es c. subst (λ (l : List (ℕ × List E)). Contains l (n, es)) (sym t.mine) (Contains-append_right (mine_of p) (mine_of o) (n, es) c);
    first = λ z. t.number ∙ first z;
  }

  pub knows_all_of_trans : (p q r : GatePass S E) → KnowsAllOf r q → KnowsAllOf q p → KnowsAllOf r p
  knows_all_of_trans p q r a b = record {
    seen = prefix_trans (seen_of p) (seen_of q) (seen_of r) b.seen a.seen;
    mine = λ n es c. a.mine n es (b.mine n es c);
    first = λ z. a.first (b.first z);
  }

  -- what is said of the passes' numbers, of their views
  pub view_numbers_of : (p o : GatePass S E) → IsFree p → IsFree o → (number_of o ≢ 0) ⊎ (number_of p ≡ 0) → (o.seat.me.0.number ≢ 0) ⊎ (p.seat.me.0.number ≡ 0)
  view_numbers_of p o f h first = ⊎_elim (λ (n : number_of o ≢ 0). inl (λ z. n (h.usable.number ∙ z))) (λ (z : number_of p ≡ 0). inr (sym f.usable.number ∙ z)) first
