-- Where reading stops, the tokens in front begin a phrase.
use Rattle.std.proofs.Common.{ℕ, zero, suc, ◌<◌, ◌≡◌, true, false, [], ◌∷◌, ◌++◌, refl, sym, ◌∙◌, ap, subst, arith, append_assoc}
use Rattle.std.specs.Prelude.{nat_lt}
use Rattle.std.proofs.lemmas.Bool.{ltb-true}
use Rattle.vd_grammar.specs.Grammar.{word, part, Grammar, Symbols, Tokens, Values, kind_of, Matches, nothing, token_then, part_then, Is, by_rule}
use Rattle.vd_grammar.specs.Tables.{lower, Laws}
use Rattle.vd_grammar.specs.Checks.{both}
use Rattle.vd_grammar.specs.Descent.{StopsRow, ended, refused, takes_then, within, reads_then, StopsSort, no_rule, in_rule, Next, next_front, front_of_sort}

module _ (G : Grammar) (L : Laws G) where
  -- ---- every row and every sort is spelled in some way

  pub record Spelled (ss : Symbols G) : Type 0 where
    pub tokens : Tokens G
    pub values : Values G ss
    pub matches : Matches G ss tokens values

  pub record SpelledSort (S : G.Sort) : Type 0 where
    pub tokens : Tokens G
    pub value : G.Value S
    pub says : Is G S tokens value

  nothing_below : {A : Type 0} (n : ℕ) → n < 0 → A
  nothing_below n h = absurd (omega arith)

  spelled_row : (n : ℕ) → ((S : G.Sort) → L.tables.height S < n → SpelledSort S) → (ss : Symbols G) → lower G L.tables n ss ≡ true → Spelled ss
  spelled_row n below [] h = record { tokens = []; values = tt; matches = nothing }
  spelled_row n below (word c ∷ ss) h = let more = spelled_row n below ss h in record {
    tokens = L.tables.sample c ∷ more.tokens;
    values = (L.tables.sample c, more.values);
    matches = token_then (L.has_sample c) more.matches;
  }
  spelled_row n below (part S ∷ ss) h =
      let split = both (nat_lt (L.tables.height S) n) (lower G L.tables n ss) h in
      let first = below S (ltb-true (L.tables.height S) n split.0) in
      let more = spelled_row n below ss split.1 in
      record { tokens = first.tokens ++ more.tokens; values = (first.value, more.values); matches = part_then refl first.says more.matches }

  spelled_below : (n : ℕ) (S : G.Sort) → L.tables.height S < n → SpelledSort S
  spelled_below zero S h = nothing_below (L.tables.height S) h
  spelled_below (suc n) S h =
      let line = spelled_row (L.tables.height S) (λ U u. spelled_below n U (omega arith)) (G.symbols (L.tables.least S)) (L.lower_least S) in
      record { tokens = line.tokens; value = G.make (L.tables.least S) line.values; says = by_rule (L.tables.least S) refl line.matches }

  pub spelled : (S : G.Sort) → SpelledSort S
  spelled S = spelled_below (suc (L.tables.height S)) S (omega arith)

  pub spelled_row_any : (ss : Symbols G) → Spelled ss
  spelled_row_any [] = record { tokens = []; values = tt; matches = nothing }
  spelled_row_any (word c ∷ ss) = let more = spelled_row_any ss in record {
    tokens = L.tables.sample c ∷ more.tokens;
    values = (L.tables.sample c, more.values);
    matches = token_then (L.has_sample c) more.matches;
  }
  spelled_row_any (part S ∷ ss) =
      let first = spelled S in
      let more = spelled_row_any ss in
      record { tokens = first.tokens ++ more.tokens; values = (first.value, more.values); matches = part_then refl first.says more.matches }

  -- ---- where reading stops, the tokens in front begin a phrase

  pub record StopFront (ss : Symbols G) (ts rest : Tokens G) : Type 0 where
    pub front : Tokens G
    pub cut : ts ≡ front ++ rest
    -- the tokens in front can be completed
    pub more : Tokens G
    pub values : Values G ss
    pub spelled : Matches G ss (front ++ more) values
    -- with another text behind the next token reading stops there too
    pub local : (us : Tokens G) → Next G us rest → StopsRow G ss (front ++ us) us

  pub record StopFrontSort (S : G.Sort) (ts rest : Tokens G) : Type 0 where
    pub front : Tokens G
    pub cut : ts ≡ front ++ rest
    pub more : Tokens G
    pub value : G.Value S
    pub spelled : Is G S (front ++ more) value
    pub local : (us : Tokens G) → Next G us rest → StopsSort G S (front ++ us) us

  ended_at : (c : G.Class) (ss : Symbols G) (us : Tokens G) → Next G us [] → StopsRow G (word c ∷ ss) us us
  ended_at c ss [] h = ended
  ended_at c ss (u ∷ us) h = let e = h.ends in cc

  refused_at : (c : G.Class) (ss : Symbols G) (t : G.Token) (ts : Tokens G) → G.has c (G.kind t) ≡ false → (us : Tokens G) → Next G us (t ∷ ts) → StopsRow G (word c ∷ ss) us us
  refused_at c ss t ts bad [] h = let e = h.ends in cc
  refused_at c ss t ts bad (u ∷ us) h = refused (ap (G.has c) h.kinds ∙ bad)

  stops_regrouped : (ss : Symbols G) (xs ys us : Tokens G) → StopsRow G ss (xs ++ (ys ++ us)) us → StopsRow G ss ((xs ++ ys) ++ us) us
  stops_regrouped ss xs ys us h = subst (λ ts. StopsRow G ss ts us) (sym (append_assoc xs ys us)) h

  mutual
    pub stop_front : {ss : Symbols G} {ts rest : Tokens G} → StopsRow G ss ts rest → StopFront ss ts rest
    stop_front (ended {c = c} {ss = ss}) = let some = spelled_row_any (word c ∷ ss) in record {
      front = [];
      cut = refl;
      more = some.tokens;
      values = some.values;
      spelled = some.matches;
      local = λ us h. ended_at c ss us h;
    }
    stop_front (refused {c = c} {ss = ss} {t = t} {ts = ts} bad) = let some = spelled_row_any (word c ∷ ss) in record {
      front = [];
      cut = refl;
      more = some.tokens;
      values = some.values;
      spelled = some.matches;
      local = λ us h. refused_at c ss t ts bad us h;
    }
    stop_front (takes_then {t = t} has_it s) = let f = stop_front s in record {
      front = t ∷ f.front;
      cut = ap (λ xs. t ∷ xs) f.cut;
      more = f.more;
      values = (t, f.values);
      spelled = token_then has_it f.spelled;
      local = λ us h. takes_then has_it (f.local us h);
    }
    stop_front (within {S = S} {ss = ss} s) =
        let f = stop_front_sort s in
        let some = spelled_row_any ss in
        record {
          front = f.front;
          cut = f.cut;
          more = f.more ++ some.tokens;
          values = (f.value, some.values);
          spelled = part_then (sym (append_assoc f.front f.more some.tokens)) f.spelled some.matches;
          local = λ us h. within (f.local us h);
        }
    stop_front (reads_then {S = S} {ss = ss} {ts = ts} {us = us} {rest = rest} {v = v} r s) =
        let f = front_of_sort G r in
        let g = stop_front s in
        record {
          front = f.front ++ g.front;
          cut = f.cut ∙ (ap (λ xs. f.front ++ xs) g.cut ∙ sym (append_assoc f.front g.front rest));
          more = g.more;
          values = (v, g.values);
          spelled = part_then (append_assoc f.front g.front g.more) f.spelled g.spelled;
          local = λ ws h. stops_regrouped (part S ∷ ss) f.front g.front ws
              (reads_then (f.local (g.front ++ ws) (subst (λ z. Next G (g.front ++ ws) z) (sym g.cut) (next_front G g.front ws rest h))) (g.local ws h));
        }

    pub stop_front_sort : {S : G.Sort} {ts rest : Tokens G} → StopsSort G S ts rest → StopFrontSort S ts rest
    stop_front_sort (no_rule {S = S} {ts = ts} none) = let some = spelled S in record {
      front = [];
      cut = refl;
      more = some.tokens;
      value = some.value;
      spelled = some.says;
      local = λ us h. no_rule (ap (G.choose S) h.kinds ∙ none);
    }
    stop_front_sort (in_rule {S = S} r {ts = ts} {rest = rest} is_chosen s) =
        let f = stop_front s in
        record {
          front = f.front;
          cut = f.cut;
          more = f.more;
          value = G.make r f.values;
          spelled = by_rule r refl f.spelled;
          local = λ us h. in_rule r (ap (G.choose S) ((next_front G f.front us rest h).kinds ∙ ap (kind_of G) (sym f.cut)) ∙ is_chosen) (f.local us h);
        }
