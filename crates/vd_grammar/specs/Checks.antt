-- What the checks of a rule say.
use Rattle.std.proofs.Common.{ℕ, zero, suc, ◌≡◌, Bool, true, false, ◌||◌, ◌&&◌, List, [], ◌∷◌, Option, Some, None, refl, sym, ◌∙◌, ap}
use Rattle.std.proofs.lemmas.Bool.{eqb-true}
use Rattle.vd_grammar.specs.Grammar.{part, Grammar, Symbols}
use Rattle.vd_grammar.specs.Tables.{nth, all, implies, nullable_row, begins_row, expects, follows_row, descends, is_rule, Laws}

-- ---- tests

pub both : (a b : Bool) → (a && b) ≡ true → (a ≡ true) × (b ≡ true)
both true b h = (refl, h)
both false b h = cc

pub or_left : (a b : Bool) → a ≡ true → (a || b) ≡ true
or_left true b h = refl
or_left false b h = cc

pub or_right : (a b : Bool) → b ≡ true → (a || b) ≡ true
or_right true b h = refl
or_right false b h = h

pub and_both : (a b : Bool) → a ≡ true → b ≡ true → (a && b) ≡ true
and_both true b h g = g
and_both false b h g = cc

pub implies-true : (a b : Bool) → implies a b ≡ true → a ≡ true → b ≡ true
implies-true true b h g = h
implies-true false b h g = cc

pub all_at : {A : Type 0} (p : A → Bool) (xs : List A) (n : ℕ) (x : A) → all p xs ≡ true → nth xs n ≡ Some x → p x ≡ true
all_at p [] n x h at = cc
all_at p (y ∷ ys) zero x h at = let e : y ≡ x = cc in ap p (sym e) ∙ (both (p y) (all p ys) h).0
all_at p (y ∷ ys) (suc n) x h at = all_at p ys n x (both (p y) (all p ys) h).1 at

module _ (G : Grammar) (L : Laws G) where
  -- What holds of every kind in the list holds of each kind.
  pub every : (p : G.Kind → Bool) → all p L.tables.kinds ≡ true → (kind : G.Kind) → p kind ≡ true
  every p h kind = all_at p L.tables.kinds (L.tables.kind_number kind) kind h (L.kind_listed kind)

  same_place : {S : G.Sort} (r q : G.Rule S) → L.tables.rule_number q ≡ L.tables.rule_number r → Some q ≡ Some r
  same_place {S} r q h = sym (L.rule_listed q) ∙ (ap (nth (L.tables.rules S)) h ∙ L.rule_listed r)

  pub is_rule-true : {S : G.Sort} (r : G.Rule S) (o : Option (G.Rule S)) → is_rule G L.tables r o ≡ true → o ≡ Some r
  is_rule-true r None h = cc
  is_rule-true r (Some q) h = same_place r q (eqb-true (L.tables.rule_number q) (L.tables.rule_number r) h)

  pub record SoundRule (S : G.Sort) (r : G.Rule S) : Type 0 where
    pub begins_of : (kind : G.Kind) → begins_row G L.tables (G.symbols r) kind ≡ true → L.tables.begins S kind ≡ true
    pub chosen_of : (kind : G.Kind) → expects G L.tables S (G.symbols r) kind ≡ true → G.choose S kind ≡ Some r
    pub nullable_of : nullable_row G L.tables (G.symbols r) ≡ true → L.tables.nullable S ≡ true
    pub row_of : follows_row G L.tables S (G.symbols r) ≡ true
    pub descends_of : descends G L.tables (L.tables.rank S) (G.symbols r) ≡ true

  pub sound_of : {S : G.Sort} (r : G.Rule S) → SoundRule S r
  sound_of {S} r =
      let begins_ok : G.Kind → Bool = λ kind. implies (begins_row G L.tables (G.symbols r) kind) (L.tables.begins S kind) in
      let chosen_ok : G.Kind → Bool = λ kind. implies (expects G L.tables S (G.symbols r) kind) (is_rule G L.tables r (G.choose S kind)) in
      let nullable_ok : Bool = implies (nullable_row G L.tables (G.symbols r)) (L.tables.nullable S) in
      let row_ok : Bool = follows_row G L.tables S (G.symbols r) in
      let descends_ok : Bool = descends G L.tables (L.tables.rank S) (G.symbols r) in
      let parts = both (all (λ kind. begins_ok kind && chosen_ok kind) L.tables.kinds) (nullable_ok && (row_ok && descends_ok)) (L.sound r) in
      let others = both nullable_ok (row_ok && descends_ok) parts.1 in
      let last = both row_ok descends_ok others.1 in
      let at = every (λ kind. begins_ok kind && chosen_ok kind) parts.0 in
      record {
        begins_of = λ kind. implies-true (begins_row G L.tables (G.symbols r) kind) (L.tables.begins S kind) (both (begins_ok kind) (chosen_ok kind) (at kind)).0;
        chosen_of = λ kind h. is_rule-true r (G.choose S kind) (implies-true (expects G L.tables S (G.symbols r) kind) (is_rule G L.tables r (G.choose S kind)) (both (begins_ok kind) (chosen_ok kind) (at kind)).1 h);
        nullable_of = implies-true (nullable_row G L.tables (G.symbols r)) (L.tables.nullable S) others.0;
        row_of = last.0;
        descends_of = last.1;
      }

  -- What is expected behind the first part may follow it.
  pub followed : (S U : G.Sort) (ss : Symbols G) → follows_row G L.tables S (part U ∷ ss) ≡ true → (kind : G.Kind) → expects G L.tables S ss kind ≡ true → L.tables.follows U kind ≡ true
  followed S U ss h kind e =
      let split = both (all (λ k. implies (expects G L.tables S ss k) (L.tables.follows U k)) L.tables.kinds) (follows_row G L.tables S ss) h in
      implies-true (expects G L.tables S ss kind) (L.tables.follows U kind) (every (λ k. implies (expects G L.tables S ss k) (L.tables.follows U k)) split.0 kind) e

  pub followed_rest : (S U : G.Sort) (ss : Symbols G) → follows_row G L.tables S (part U ∷ ss) ≡ true → follows_row G L.tables S ss ≡ true
  followed_rest S U ss h = (both (all (λ k. implies (expects G L.tables S ss k) (L.tables.follows U k)) L.tables.kinds) (follows_row G L.tables S ss) h).1
