-- What reading does, as relations: what is read is spelled so, reading looks no further than the next token, and it has one outcome.
use Rattle.std.proofs.Common.{◌≡◌, Bool, true, false, [], ◌∷◌, ◌++◌, Some, None, refl, sym, ◌∙◌, ap, subst, append_assoc}
use Rattle.vd_grammar.specs.Grammar.{word, part, Grammar, Symbols, Tokens, Values, kind_of, Matches, nothing, token_then, part_then, Is, by_rule}

module _ (G : Grammar) where
  -- ---- reading, as relations

  mutual
    pub data ReadsRow : (ss : Symbols G) → Tokens G → Values G ss → Tokens G → Type 0 where
      done : {ts : Tokens G} → ReadsRow [] ts tt ts
      takes : {c : G.Class} {ss : Symbols G} {t : G.Token} {ts rest : Tokens G} {vs : Values G ss}
          → G.has c (G.kind t) ≡ true → ReadsRow ss ts vs rest → ReadsRow (word c ∷ ss) (t ∷ ts) (t, vs) rest
      reads : {S : G.Sort} {ss : Symbols G} {ts us rest : Tokens G} {v : G.Value S} {vs : Values G ss}
          → ReadsSort S ts v us → ReadsRow ss us vs rest → ReadsRow (part S ∷ ss) ts (v, vs) rest

    pub data ReadsSort : (S : G.Sort) → Tokens G → G.Value S → Tokens G → Type 0 where
      chosen : {S : G.Sort} (r : G.Rule S) {ts rest : Tokens G} {vs : Values G (G.symbols r)} {v : G.Value S}
          → G.choose S (kind_of G ts) ≡ Some r → v ≡ G.make r vs → ReadsRow (G.symbols r) ts vs rest → ReadsSort S ts v rest

  mutual
    pub data StopsRow : Symbols G → Tokens G → Tokens G → Type 0 where
      ended : {c : G.Class} {ss : Symbols G} → StopsRow (word c ∷ ss) [] []
      refused : {c : G.Class} {ss : Symbols G} {t : G.Token} {ts : Tokens G} → G.has c (G.kind t) ≡ false → StopsRow (word c ∷ ss) (t ∷ ts) (t ∷ ts)
      takes_then : {c : G.Class} {ss : Symbols G} {t : G.Token} {ts rest : Tokens G}
          → G.has c (G.kind t) ≡ true → StopsRow ss ts rest → StopsRow (word c ∷ ss) (t ∷ ts) rest
      within : {S : G.Sort} {ss : Symbols G} {ts rest : Tokens G} → StopsSort S ts rest → StopsRow (part S ∷ ss) ts rest
      reads_then : {S : G.Sort} {ss : Symbols G} {ts us rest : Tokens G} {v : G.Value S}
          → ReadsSort S ts v us → StopsRow ss us rest → StopsRow (part S ∷ ss) ts rest

    pub data StopsSort : G.Sort → Tokens G → Tokens G → Type 0 where
      no_rule : {S : G.Sort} {ts : Tokens G} → G.choose S (kind_of G ts) ≡ None → StopsSort S ts ts
      in_rule : {S : G.Sort} (r : G.Rule S) {ts rest : Tokens G} → G.choose S (kind_of G ts) ≡ Some r → StopsRow (G.symbols r) ts rest → StopsSort S ts rest

  -- ---- what is read is spelled so, and reading looks no further than the next token

  abbrev pub is_end : Tokens G → Bool
  is_end [] = true
  is_end (t ∷ ts) = false

  -- a token of one kind comes next, or no token
  pub record Next (us rest : Tokens G) : Type 0 where
    pub kinds : kind_of G us ≡ kind_of G rest
    pub ends : is_end us ≡ is_end rest

  pub next_front : (xs us rest : Tokens G) → Next us rest → Next (xs ++ us) (xs ++ rest)
  next_front [] us rest h = h
  next_front (x ∷ xs) us rest h = record { kinds = refl; ends = refl }

  -- the tokens in front, and what they say whatever comes behind the next token
  pub record Front (ss : Symbols G) (ts : Tokens G) (vs : Values G ss) (rest : Tokens G) : Type 0 where
    pub front : Tokens G
    pub cut : ts ≡ front ++ rest
    pub spelled : Matches G ss front vs
    pub local : (us : Tokens G) → Next us rest → ReadsRow ss (front ++ us) vs us

  pub record FrontSort (S : G.Sort) (ts : Tokens G) (v : G.Value S) (rest : Tokens G) : Type 0 where
    pub front : Tokens G
    pub cut : ts ≡ front ++ rest
    pub spelled : Is G S front v
    pub local : (us : Tokens G) → Next us rest → ReadsSort S (front ++ us) v us

  reads_regrouped : (S : G.Sort) (xs ys us : Tokens G) (v : G.Value S) → ReadsSort S (xs ++ (ys ++ us)) v (ys ++ us) → ReadsSort S ((xs ++ ys) ++ us) v (ys ++ us)
  reads_regrouped S xs ys us v h = subst (λ ts. ReadsSort S ts v (ys ++ us)) (sym (append_assoc xs ys us)) h

  mutual
    pub front_of : {ss : Symbols G} {ts rest : Tokens G} {vs : Values G ss} → ReadsRow ss ts vs rest → Front ss ts vs rest
    front_of (done {ts = ts}) = record { front = []; cut = refl; spelled = nothing; local = λ us h. done }
    front_of (takes {t = t} has_it r) = let f = front_of r in record {
      front = t ∷ f.front;
      cut = ap (λ xs. t ∷ xs) f.cut;
      spelled = token_then has_it f.spelled;
      local = λ us h. takes has_it (f.local us h);
    }
    front_of (reads {S = S} {ss = ss} {ts = ts} {us = us} {rest = rest} {v = v} {vs = vs} r more) =
        let f = front_of_sort r in
        let g = front_of more in
        record {
          front = f.front ++ g.front;
          cut = f.cut ∙ (ap (λ xs. f.front ++ xs) g.cut ∙ sym (append_assoc f.front g.front rest));
          spelled = part_then refl f.spelled g.spelled;
          local = λ ws h. reads (reads_regrouped S f.front g.front ws v (f.local (g.front ++ ws) (subst (λ z. Next (g.front ++ ws) z) (sym g.cut) (next_front g.front ws rest h)))) (g.local ws h);
        }

    pub front_of_sort : {S : G.Sort} {ts rest : Tokens G} {v : G.Value S} → ReadsSort S ts v rest → FrontSort S ts v rest
    front_of_sort (chosen {S = S} r {ts = ts} {rest = rest} {vs = vs} {v = v} is_chosen made line) =
        let f = front_of line in
        record {
          front = f.front;
          cut = f.cut;
          spelled = by_rule r made f.spelled;
          local = λ us h. chosen r (ap (G.choose S) ((next_front f.front us rest h).kinds ∙ ap (kind_of G) (sym f.cut)) ∙ is_chosen) made (f.local us h);
        }

  -- ---- reading has one outcome

  pub record SameRead (ss : Symbols G) (v w : Values G ss) (us ws : Tokens G) : Type 0 where
    pub values : v ≡ w
    pub rests : us ≡ ws

  pub record SameReadSort (S : G.Sort) (v w : G.Value S) (us ws : Tokens G) : Type 0 where
    pub values : v ≡ w
    pub rests : us ≡ ws

  same_rule : {S : G.Sort} {r q : G.Rule S} → Some r ≡ Some q → q ≡ r
  same_rule h = cc

  -- what a rule's row reads, with the syntax of the sort
  record ByRule (S : G.Sort) (r : G.Rule S) (ts : Tokens G) (v : G.Value S) (rest : Tokens G) : Type 0 where
    values : Values G (G.symbols r)
    made : v ≡ G.make r values
    line : ReadsRow (G.symbols r) ts values rest

  mutual
    pub same_read : {ss : Symbols G} {ts us ws : Tokens G} {v w : Values G ss} → ReadsRow ss ts v us → ReadsRow ss ts w ws → SameRead ss v w us ws
    same_read done done = record { values = refl; rests = refl }
    same_read (takes {t = t} h r) (takes g q) = let s = same_read r q in record { values = ap (λ vs. (t, vs)) s.values; rests = s.rests }
    same_read (reads {ss = ss} {us = us} {v = v} {vs = vs} p r) (reads {us = us'} {rest = rest'} {v = v'} {vs = vs'} p' r') =
        let first = same_sort p p' in
        let more = same_read r (subst (λ ts. ReadsRow ss ts vs' rest') (sym first.rests) r') in
        record { values = ap (λ x. (x, vs)) first.values ∙ ap (λ xs. (v', xs)) more.values; rests = more.rests }

    pub same_sort : {S : G.Sort} {ts us ws : Tokens G} {v w : G.Value S} → ReadsSort S ts v us → ReadsSort S ts w ws → SameReadSort S v w us ws
    same_sort (chosen {S = S} r {ts = ts} {rest = us} {vs = vs} {v = v} c m line) (chosen r' {rest = ws} {vs = vs'} {v = w} c' m' line') =
        let other : ByRule S r' ts w ws = record { values = vs'; made = m'; line = line' } in
        let here = subst (λ q. ByRule S q ts w ws) (same_rule (sym c ∙ c')) other in
        let s = same_read line here.line in
        record { values = m ∙ (ap (G.make r) s.values ∙ sym here.made); rests = s.rests }

  mutual
    pub no_read_stop : {ss : Symbols G} {ts us ws : Tokens G} {v : Values G ss} → ReadsRow ss ts v us → StopsRow ss ts ws → ⊥
    no_read_stop done s = elim s [ ]
    no_read_stop (takes h r) (refused b) = cc
    no_read_stop (takes h r) (takes_then g s) = no_read_stop r s
    no_read_stop (reads p r) (within s) = no_read_stop_sort p s
    no_read_stop (reads {ss = ss} p r) (reads_then {rest = rest'} p' s) = no_read_stop r (subst (λ ts. StopsRow ss ts rest') (sym (same_sort p p').rests) s)

    pub no_read_stop_sort : {S : G.Sort} {ts us ws : Tokens G} {v : G.Value S} → ReadsSort S ts v us → StopsSort S ts ws → ⊥
    no_read_stop_sort (chosen r c m line) (no_rule n) = cc
    no_read_stop_sort (chosen r {ts = ts} c m line) (in_rule r' {rest = ws} c' s) = no_read_stop line (subst (λ q. StopsRow (G.symbols q) ts ws) (same_rule (sym c ∙ c')) s)

  mutual
    pub same_stop : {ss : Symbols G} {ts us ws : Tokens G} → StopsRow ss ts us → StopsRow ss ts ws → us ≡ ws
    same_stop ended ended = refl
    same_stop (refused b) (refused a) = refl
    same_stop (refused b) (takes_then h s) = cc
    same_stop (takes_then h s) (refused b) = cc
    same_stop (takes_then h s) (takes_then g q) = same_stop s q
    same_stop (within s) (within q) = same_stop_sort s q
    same_stop (within s) (reads_then p q) = absurd (no_read_stop_sort p s)
    same_stop (reads_then p s) (within q) = absurd (no_read_stop_sort p q)
    same_stop (reads_then {ss = ss} p s) (reads_then {rest = ws} p' q) = same_stop s (subst (λ ts. StopsRow ss ts ws) (sym (same_sort p p').rests) q)

    pub same_stop_sort : {S : G.Sort} {ts us ws : Tokens G} → StopsSort S ts us → StopsSort S ts ws → us ≡ ws
    same_stop_sort (no_rule n) (no_rule m) = refl
    same_stop_sort (no_rule n) (in_rule r c s) = cc
    same_stop_sort (in_rule r c s) (no_rule n) = cc
    same_stop_sort (in_rule r {ts = ts} c s) (in_rule r' {rest = ws} c' q) = same_stop s (subst (λ x. StopsRow (G.symbols x) ts ws) (same_rule (sym c ∙ c')) q)
