-- The steps of the ticket lock keep the rule: loads of its two words, the draw of a ticket, and the advance.
use Rattle.std.proofs.Common.{◌≡◌, ◌≢◌, ℕ, ◌+◌, ◌%◌, ◌<◌, ◌≤◌, eqb, true, false, List, [], ◌∷◌, ◌++◌, length, get_or, set, Option, Some, None, refl, ap, sym, ◌∙◌, subst, arith, length-append, length-set, eq-eqb, ne_eqb}
use Rattle.std.specs.Prelude.{is_some, if◌then◌else◌}
use Rattle.std.proofs.lemmas.List.{set-get_or}
use Rattle.std.proofs.Math.Nat.{mod-add-mod}
use mathlib.Core.Logic.{dite}
use mathlib.Core.Option as core
use mathlib.Core.List.{IsPrefix}
use native.Mathlib.Decide.{ℕ_discrete}
use lib.ListN.{get_elem?}
use prog.Atomic.{either}
use Rattle.atomic_table.specs.Table.{State, step, keeps, takes, gives, stepped, Allows}
use Rattle.atomic_table.proofs.Lists.{set_here, one_turn}
use Rattle.vd_gate.specs.declared.story.PastTurn.{PastTurn}
use Rattle.vd_gate.specs.declared.view.View.{View}
use Rattle.vd_gate.specs.Turns.{entry_by}
use Rattle.vd_gate.specs.Views.{SeatState, with_seen, with_ticket, with_turn_held, after_turn}
use Rattle.vd_gate.specs.Rule.{modulus, ticket_count, tickets_out, NoTurnHeld, MeetsRule}
use Rattle.vd_gate.specs.Steps.{LoadsTicket, DrawsTicket, LoadsServing, AdvancesServing}
use Rattle.vd_gate.proofs.Lists.{prefix_self, prefix_push, place_below_length, set_only, same_at_place}
use Rattle.vd_gate.proofs.Entries.{entries_by-push, entries_by_other, with_turn_has}
use Rattle.vd_gate.proofs.Frames.{false_of_not_true, none_is_not_some, with_one, with_one-same, with_one-other, no_turn_held_before, tickets_out-same, tickets_out-set, tickets_out_small, fits_others, rule_after_step, rule_after_load}

module _ {E S : Type 0} (stands : ℕ → S → List (PastTurn E) → Type 0) (base : ℕ) where
  abbrev St : Type 0
  St = State (Option S) (View E)

  abbrev M : Type 0
  M = SeatState S E

  abbrev Rule : St → Type 0
  Rule = MeetsRule stands base

  pub load_ticket_allowed : (slots id : ℕ) (me : M) → Allows Rule slots id me 0 (λ n. n) (LoadsTicket (step slots 0 0 0 core.none) me)
  load_ticket_allowed slots id me s r _ at _ = let v : View E = me.0 in let f = r.each id v at in let w : View E = with_seen r.history v in (
    w,
    keeps,
    tt,
    rule_after_load s r 0 id me.1 v w at refl refl
        record { living = f.living; seen = prefix_self r.history; told = f.told; mine = f.mine; ticket = f.ticket; holds = λ h. ((f.holds h).0, refl); first = f.first },
    (refl, (r.history, f.seen, refl)),
  )

  some-injective : (x y : ℕ) → Some x ≡ Some y → x ≡ y
  some-injective x y e = cc

  pub draw_ticket_allowed : (slots id old new : ℕ) (me : M) → new ≡ (old + 1) % modulus → me.0.ticket ≡ None → me.0.holds ≡ false → me.0.live ≡ true
      → Allows Rule slots id me 0 (λ n. either (eqb n old) new n) (DrawsTicket (step slots 0 old new core.none) me)
  draw_ticket_allowed slots id old new me up none holds live s r _ at _ =
      let v : View E = me.0 in
      let f = r.each id v at in
      let H : List (PastTurn E) = r.history in
      let a : ℕ = tickets_out s.views in
      let x : ℕ = length H + a in
      let n : ℕ = get_or s.words 0 0 in
      let is_word : n ≡ x % modulus = ap (λ (l : List ℕ). get_or l 0 0) r.words in
      let w : View E = with_ticket x v in
      let holder : ℕ → ℕ = with_one x id r.holder in dite (ℕ_discrete n old)
      (λ hit. let after : new ≡ (length H + (a + 1)) % modulus =
      up ∙ (ap (λ (z : ℕ). (z + 1) % modulus) (sym hit ∙ is_word) ∙ (mod-add-mod x modulus 1 ∙ ap (λ (z : ℕ). z % modulus) (let e : x + 1 ≡ length H + (a + 1) = omega arith in e))) in
      let count : tickets_out (set s.views id w) ≡ a + 1 = (let t = tickets_out-set s.views id v w at in let z : ticket_count v ≡ 0 = ap (λ (o : Option ℕ). if is_some o then 1 else 0) none in omega arith) in (
        w,
        keeps,
        tt,
        subst (λ b. Rule (stepped s 0 (either b new n) id me.1 w keeps)) (sym (eq-eqb n old hit))
            (rule_after_step s r id w H (a + 1) r.made holder (set s.words 0 new) s.homes count r.few.0 r.few.1
            (ap (λ (l : List ℕ). set l 0 new) r.words ∙ ap (λ (z : ℕ). z ∷ length H % modulus ∷ r.made ∷ []) after)
            record {
              living = f.living;
              seen = f.seen;
              told = f.told;
              mine = f.mine;
              ticket = λ y e. let same : x ≡ y = some-injective x y e in (live, omega arith, omega arith, with_one-same x id r.holder y (sym same));
              holds = λ h. absurd (let c : true ≡ false = sym h ∙ holds in cc);
              first = f.first;
            }
            (λ j u _ e. fits_others H a (a + 1) (length s.views) r.made r.made r.owner r.holder holder j u (omega arith) (λ y lt. with_one-other x id r.holder y (λ is. omega arith)) (λ _. refl) (r.each j u e))
            r.fresh r.slots (λ nobody. r.home (no_turn_held_before s.views id v w at refl nobody))),
        (refl, (λ _. (x, sym is_word, refl)), (λ miss. absurd (miss hit))),
      ))
      (λ miss. (
        v,
        keeps,
        tt,
        subst (λ b. Rule (stepped s 0 (either b new n) id me.1 v keeps)) (sym (ne_eqb n old miss)) (rule_after_load s r 0 id me.1 v v at refl refl f),
        (refl, (λ hit. absurd (miss hit)), (λ _. refl)),
      ))

  -- where a seat has the ticket that is served, and not the turn, nobody has it
  no_turn_held : (s : St) (r : Rule s) (id : ℕ) (v : View E) → get_elem? s.views id ≡ core.some v → v.ticket ≡ Some (length r.history) → v.holds ≡ false → NoTurnHeld s.views
  no_turn_held s r id v at ticket holds j u e = false_of_not_true u.holds (λ h. let g = r.each j u e in
      let theirs = (g.ticket (length r.history) (g.holds h).0).3 in
      let own = ((r.each id v at).ticket (length r.history) ticket).3 in
      let same : u ≡ v = same_at_place s.views j id u v (sym theirs ∙ own) e at in
      let c : true ≡ false = sym h ∙ (ap (λ (z : View E). z.holds) same ∙ holds) in cc)

  pub load_serving_allowed : (slots id x : ℕ) (me : M) → me.0.ticket ≡ Some x → me.0.holds ≡ false → Allows Rule slots id me 1 (λ n. n) (LoadsServing stands (step slots 1 0 0 core.none) me)
  load_serving_allowed slots id x me ticket holds s r _ at _ =
      let v : View E = me.0 in
      let f = r.each id v at in
      let H : List (PastTurn E) = r.history in
      let n : ℕ = get_or s.words 1 0 in
      let t = f.ticket x ticket in
      let is_word : n ≡ length H % modulus = ap (λ (l : List ℕ). get_or l 1 0) r.words in
      let few : tickets_out s.views ≤ 64 = (let a = tickets_out_small s.views in let b = r.few.0 in let c = r.few.1 in omega arith) in dite (ℕ_discrete n (x % modulus))
      (λ hit. let low = t.1 in let high = t.2 in
      let here : length H ≡ x = one_turn (length H) x modulus low (omega arith) (sym is_word ∙ hit) in
      let mine : v.ticket ≡ Some (length H) = ticket ∙ ap Some (sym here) in
      let w : View E = with_turn_held H v in
      let h = r.home (no_turn_held s r id v at mine holds) in (
        w,
        takes 0 (Some h.0),
        ap (λ l. get_elem? l 0) h.1,
        subst (λ (ws : List ℕ). Rule record { words = ws; homes = set s.homes 0 core.none; views = set s.views id w }) (sym (set-get_or s.words 1 0))
            (rule_after_step s r id w H (tickets_out s.views) r.made r.holder s.words (set s.homes 0 core.none) (tickets_out-same s.views id v w at refl) r.few.0 r.few.1 r.words
            record { living = f.living; seen = prefix_self H; told = f.told; mine = f.mine; ticket = f.ticket; holds = λ _. (mine, refl); first = f.first }
            (λ j u _ e. r.each j u e) r.fresh (length-set s.homes 0 core.none ∙ r.slots)
            (λ none. absurd (let c : true ≡ false = none id w (set_here s.views id w (place_below_length s.views id v at)) in cc))),
        (λ y e. (
          (λ _. (H, h.0, f.seen, refl, refl, subst (λ (b : ℕ). stands b h.0 H) (sym (f.living t.0).1) h.2, λ k es c. (f.mine k es c).2)),
          (λ miss. absurd (miss (hit ∙ ap (λ (z : ℕ). z % modulus) (some-injective x y (sym ticket ∙ e))))),
        )),
      ))
      (λ miss. (
        v,
        keeps,
        tt,
        rule_after_load s r 1 id me.1 v v at refl refl f,
        (λ y e. ((λ hit. absurd (miss (hit ∙ ap (λ (z : ℕ). z % modulus) (some-injective y x (sym e ∙ ticket))))), (λ _. refl))),
      ))

  advance_allowed_from : (slots id : ℕ) (v : View E) (cs : List (ℕ × Option S)) (state : S) (t : PastTurn E) → v.holds ≡ true → t.number ≡ v.number → stands v.base state (v.seen ++ t ∷ [])
      → Allows Rule slots id (v, (0, Some state) ∷ cs) 1 (λ n. (n + 1) % modulus) (AdvancesServing stands (step slots 1 1 0 core.none) (v, (0, Some state) ∷ cs))
  advance_allowed_from slots id v cs state t holds by next s r _ at _ =
      let f = r.each id v at in
      let H : List (PastTurn E) = r.history in
      let turn = f.holds holds in
      let own = f.ticket (length H) turn.0 in
      let live = f.living own.0 in
      let number : t.number ≡ id = by ∙ live.0 in
      let n : ℕ = get_or s.words 1 0 in
      let new : ℕ = (n + 1) % modulus in
      let a : ℕ = tickets_out s.views in
      let w : View E = after_turn t v in
      let m : ℕ = tickets_out (set s.views id w) in
      let fewer : m + 1 ≡ a = (let p = tickets_out-set s.views id v w at in let z : ticket_count v ≡ 1 = ap (λ (o : Option ℕ). if is_some o then 1 else 0) turn.0 in omega arith) in
      let now : List (PastTurn E) = H ++ t ∷ [] in
      let long : length now ≡ length H + 1 = length-append H (t ∷ []) in
      let seats : ℕ = length s.views in
      let inside : id < seats = place_below_length s.views id v at in
      let seen : v.seen ++ t ∷ [] ≡ now = ap (λ (l : List (PastTurn E)). l ++ t ∷ []) turn.1 in
      let serving : new ≡ length now % modulus = ap (λ (z : ℕ). (z + 1) % modulus) (ap (λ (l : List ℕ). get_or l 1 0) r.words) ∙ (mod-add-mod (length H) modulus 1 ∙ ap (λ (z : ℕ). z % modulus) (sym long)) in
      let tickets : (length H + a) % modulus ≡ (length now + m) % modulus = ap (λ (z : ℕ). z % modulus) (let e : length H + a ≡ length now + m = omega arith in e) in (
        w,
        gives,
        tt,
        rule_after_step s r id w now m r.made r.holder (set s.words 1 new) (set s.homes 0 (core.some (Some state))) refl r.few.0 r.few.1
            (ap (λ (l : List ℕ). set l 1 new) r.words ∙ (λ i. tickets i ∷ serving i ∷ r.made ∷ []))
            record {
              living = f.living;
              seen = subst (λ (l : List (PastTurn E)). IsPrefix l now) (sym seen) (prefix_self now);
              told = λ xs c. prefix_push xs H t (f.told xs c);
              mine = λ k es c. let o = with_turn_has t v.mine k es c in let g = f.mine k o.0 o.1 in
                  (g.0, g.1, entries_by-push k H t ∙ (ap (λ (l : List E). l ++ entry_by k t) g.2 ∙ sym o.2));
              ticket = λ x e. absurd (none_is_not_some x e);
              holds = λ h. absurd (let c : false ≡ true = h in cc);
              first = f.first;
            }
            (λ j u other e. let g = r.each j u e in record {
              living = g.living;
              seen = prefix_push u.seen H t g.seen;
              told = λ xs c. prefix_push xs H t (g.told xs c);
              mine = λ k es c. let o = g.mine k es c in
                  (o.0, o.1, entries_by_other k H t (λ same. other (sym o.1 ∙ (ap r.owner (sym same ∙ number) ∙ live.2))) ∙ o.2);
              ticket = λ x q. let o = g.ticket x q in let low = o.1 in let high = o.2 in
                  let apart : x ≢ length H = λ is. other (sym o.3 ∙ (ap r.holder is ∙ own.3)) in
                  (o.0, omega arith, omega arith, o.3);
              holds = λ h. absurd (other (sym (g.ticket (length H) (g.holds h).0).3 ∙ own.3));
              first = g.first;
            })
            (λ k le. entries_by_other k H t (λ same. omega arith) ∙ r.fresh k le)
            (length-set s.homes 0 (core.some (Some state)) ∙ r.slots)
            (λ none. (state, set_only s.homes (core.some (Some state)) r.slots, subst (λ (p : ℕ × List (PastTurn E)). stands p.0 state p.1) (λ i. (live.1 i, seen i)) next)),
        (t, state, by, refl, next, refl, refl),
      )

  pub advance_allowed : (slots id : ℕ) (me : M) (cs : List (ℕ × Option S)) (state : S) (t : PastTurn E) → me.1 ≡ (0, Some state) ∷ cs → me.0.holds ≡ true → t.number ≡ me.0.number → stands me.0.base state (me.0.seen ++ t ∷ [])
      → Allows Rule slots id me 1 (λ n. (n + 1) % modulus) (AdvancesServing stands (step slots 1 1 0 core.none) me)
  advance_allowed slots id me cs state t has holds by next =
      subst (λ (c : List (ℕ × Option S)). Allows Rule slots id (me.0, c) 1 (λ n. (n + 1) % modulus) (AdvancesServing stands (step slots 1 1 0 core.none) (me.0, c))) (sym has) (advance_allowed_from slots id me.0 cs state t holds by next)
