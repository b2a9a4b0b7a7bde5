-- When passes are all of their gate, for those who close one.
use Rattle.std.proofs.Common.{◌≡◌, ℕ, ◌<◌, List, [], ◌∷◌, length, sym, ◌∙◌, subst, ⊎_elim}
use Rattle.std.specs.Prelude.{slice_index_or}
use Rattle.std.specs.List.{Contains}
use Rattle.std.proofs.lemmas.List.Elements.{Contains-get_or}
use Rattle.vd_gate.specs.declared.pass.GatePass.{GatePass}
use Rattle.vd_gate.specs.declared.gate.Gate.{Gate}
use Rattle.vd_gate.specs.Passes.{number_of, made_of, mine_of, IsFree, HasListFor}
use Rattle.vd_gate.specs.Gates.{IsPassOf, AreAllPasses, IsSeat}
use Rattle.vd_gate.proofs.Lists.{contains_first, contains_cons, contains_none}

module _ {S E : Type 0} where
  -- a pass has a list for its own number
  pub own_list : (p : GatePass S E) (n : ℕ) → IsFree p → number_of p ≡ n → (es : List E) × Contains (mine_of p) (n, es)
  own_list p n free is = let own = free.usable.lists.own in (own.0, subst (λ (k : ℕ). Contains (mine_of p) (k, own.0)) is own.1)

  -- passes in the order of their numbers, as many as were made
  pub all_by_seat : (g : Gate S E) (passes : List (GatePass S E)) (d : GatePass S E) → 0 < length passes
      → ((i : ℕ) (d : GatePass S E) → i < length passes → IsSeat g (length passes) i (slice_index_or passes i d)) → AreAllPasses g passes
  all_by_seat g passes d some seats =
      let at : (p : GatePass S E) (c : Contains passes p) → IsSeat g (length passes) c.0 p = (λ p c. subst (IsSeat g (length passes) c.0) c.2 (seats c.0 p c.1)) in
      let lists : (n : ℕ) → n < length passes → HasListFor passes n = (λ n lt. let s = seats n d lt in let own = own_list (slice_index_or passes n d) n s.free s.number in
      (slice_index_or passes n d, own.0, Contains-get_or passes n d lt, own.1)) in record {
        free = λ p c. let s = at p c in (s.of_gate, s.free);
        first = let s = seats 0 d some in (slice_index_or passes 0 d, Contains-get_or passes 0 d some, s.number);
        lists = λ p c zero n lt. let s = at p c in let made : made_of p ≡ length passes = s.made (sym s.number ∙ zero) in lists n (subst (λ (m : ℕ). n < m) made lt);
      }

  only_one : (P : GatePass S E → Type 0) (p q : GatePass S E) → P p → Contains (p ∷ []) q → P q
  only_one P p q holds c = ⊎_elim (λ (e : p ≡ q). subst P e holds) (λ (d : Contains [] q). absurd (contains_none q d)) (contains_cons p q [] c)

  -- one pass that answers for every number, as after joins
  pub all_in_one : (g : Gate S E) (p : GatePass S E) → IsPassOf g p → IsFree p → number_of p ≡ 0 → ((n : ℕ) → n < made_of p → (es : List E) × Contains (mine_of p) (n, es)) → AreAllPasses g (p ∷ [])
  all_in_one g p of_gate free zeroth has = record {
    free = λ q c. only_one (λ r. IsPassOf g r × IsFree r) p q (of_gate, free) c;
    first = (p, contains_first p [], zeroth);
    lists = λ q c _ n lt. only_one (λ r. n < made_of r → HasListFor (p ∷ []) n) p q (λ lt. let h = has n lt in (p, h.0, contains_first p [], h.1)) c lt;
  }
