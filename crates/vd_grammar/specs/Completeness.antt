-- What is spelled so is read, and the function reads as the relations say.
use Rattle.std.proofs.Common.{ℕ, zero, suc, ◌+◌, ◌*◌, ◌<◌, ◌≤◌, ◌≡◌, Bool, true, false, ◌||◌, ◌&&◌, not, [], ◌∷◌, ◌++◌, length, Option, Some, None, Ok, Err, refl, sym, ◌∙◌, ap, subst, ◌⊎◌, inl, inr, if◌then◌else◌, arith, append_assoc, length-append}
use Rattle.std.specs.Prelude.{nat_lt}
use Rattle.std.proofs.lemmas.Bool.{ltb-true}
use Rattle.vd_grammar.specs.Outcome.{Outcome, and_then}
use Rattle.vd_grammar.specs.Grammar.{word, part, Grammar, Symbols, Tokens, Values, kind_of, Matches, nothing, token_then, part_then, Is, by_rule}
use Rattle.vd_grammar.specs.Reading.{Reader, row, by_choice, read_by, read}
use Rattle.vd_grammar.specs.Tables.{nullable_row, begins_row, expects, follows_row, descends, Laws}
use Rattle.vd_grammar.specs.Checks.{both, or_left, or_right, and_both, sound_of, followed, followed_rest}
use Rattle.vd_grammar.specs.Descent.{ReadsRow, done, takes, reads, ReadsSort, chosen, StopsRow, ended, refused, takes_then, within, reads_then, StopsSort, no_rule, in_rule, front_of_sort, same_sort, no_read_stop_sort, same_stop_sort}

module _ (G : Grammar) (L : Laws G) where
  -- ---- what is spelled so is read, where what comes next may follow

  -- The row begins with the next kind, or is empty and may be.
  Begins : Symbols G → Tokens G → Tokens G → Type 0
  Begins ss xs rest = (begins_row G L.tables ss (kind_of G (xs ++ rest)) ≡ true) ⊎ ((xs ≡ []) × (nullable_row G L.tables ss ≡ true))

  BeginsSort : G.Sort → Tokens G → Tokens G → Type 0
  BeginsSort S xs rest = (L.tables.begins S (kind_of G (xs ++ rest)) ≡ true) ⊎ ((xs ≡ []) × (L.tables.nullable S ≡ true))

  begins_part : (S : G.Sort) (ss : Symbols G) (ts xs ys rest : Tokens G) → ts ≡ xs ++ ys → BeginsSort S xs (ys ++ rest) → Begins ss ys rest → Begins (part S ∷ ss) ts rest
  unfolding Begins BeginsSort
  begins_part S ss ts xs ys rest cut (inl b) more = inl (rw (cut, append_assoc xs ys rest) (or_left (L.tables.begins S (kind_of G (xs ++ (ys ++ rest)))) (L.tables.nullable S && begins_row G L.tables ss (kind_of G (xs ++ (ys ++ rest)))) b))
  begins_part S ss ts xs ys rest cut (inr e) (inl b) =
      let empty : ts ≡ ys = cut ∙ ap (λ zs. zs ++ ys) e.0 in
      inl (rw empty (or_right (L.tables.begins S (kind_of G (ys ++ rest))) (L.tables.nullable S && begins_row G L.tables ss (kind_of G (ys ++ rest))) (and_both (L.tables.nullable S) (begins_row G L.tables ss (kind_of G (ys ++ rest))) e.1 b)))
  begins_part S ss ts xs ys rest cut (inr e) (inr f) = inr (cut ∙ (ap (λ zs. zs ++ ys) e.0 ∙ f.0), and_both (L.tables.nullable S) (nullable_row G L.tables ss) e.1 f.1)

  begins_rule : (S : G.Sort) (r : G.Rule S) (xs rest : Tokens G) → Begins (G.symbols r) xs rest → BeginsSort S xs rest
  unfolding Begins BeginsSort
  begins_rule S r xs rest (inl b) = inl ((sound_of G L r).begins_of (kind_of G (xs ++ rest)) b)
  begins_rule S r xs rest (inr e) = inr (e.0, (sound_of G L r).nullable_of e.1)

  mutual
    unfolding Begins

    begins_of_row : {ss : Symbols G} {xs : Tokens G} {vs : Values G ss} → Matches G ss xs vs → (rest : Tokens G) → Begins ss xs rest
    begins_of_row nothing rest = inr (refl, refl)
    begins_of_row (token_then h m) rest = inl h
    begins_of_row (part_then {S = S} {ss = ss} {xs = xs} {ys = ys} {ts = ts} cut x m) rest =
        begins_part S ss ts xs ys rest cut (begins_of_sort x (ys ++ rest)) (begins_of_row m rest)

    begins_of_sort : {S : G.Sort} {xs : Tokens G} {v : G.Value S} → Is G S xs v → (rest : Tokens G) → BeginsSort S xs rest
    begins_of_sort (by_rule {S = S} r {ts = ts} made m) rest = begins_rule S r ts rest (begins_of_row m rest)

  expects_row : (S : G.Sort) (ss : Symbols G) (xs rest : Tokens G) → Begins ss xs rest → L.tables.follows S (kind_of G rest) ≡ true → expects G L.tables S ss (kind_of G (xs ++ rest)) ≡ true
  unfolding Begins
  expects_row S ss xs rest (inl b) h = or_left (begins_row G L.tables ss (kind_of G (xs ++ rest))) (nullable_row G L.tables ss && L.tables.follows S (kind_of G (xs ++ rest))) b
  expects_row S ss xs rest (inr e) h = or_right (begins_row G L.tables ss (kind_of G (xs ++ rest))) (nullable_row G L.tables ss && L.tables.follows S (kind_of G (xs ++ rest)))
      (and_both (nullable_row G L.tables ss) (L.tables.follows S (kind_of G (xs ++ rest))) e.1 (rw e.0 h))

  mutual
    pub read_row : (S : G.Sort) {ss : Symbols G} {xs : Tokens G} {vs : Values G ss} → Matches G ss xs vs
        → follows_row G L.tables S ss ≡ true → (rest : Tokens G) → L.tables.follows S (kind_of G rest) ≡ true → ReadsRow G ss (xs ++ rest) vs rest
    read_row S nothing ok rest h = done
    read_row S (token_then has_it m) ok rest h = takes has_it (read_row S m ok rest h)
    read_row S (part_then {S = U} {ss = ss} {xs = xs} {ys = ys} {ts = ts} {v = v} {vs = vs} cut x m) ok rest h =
        let next = expects_row S ss ys rest (begins_of_row m rest) h in
        let may = followed G L S U ss ok (kind_of G (ys ++ rest)) next in
        let first = read_sort x (ys ++ rest) may in
        let cut' : xs ++ (ys ++ rest) ≡ ts ++ rest = sym (append_assoc xs ys rest) ∙ ap (λ zs. zs ++ rest) (sym cut) in
        reads (subst (λ zs. ReadsSort G U zs v (ys ++ rest)) cut' first) (read_row S m (followed_rest G L S U ss ok) rest h)

    pub read_sort : {S : G.Sort} {xs : Tokens G} {v : G.Value S} → Is G S xs v → (rest : Tokens G) → L.tables.follows S (kind_of G rest) ≡ true → ReadsSort G S (xs ++ rest) v rest
    read_sort (by_rule {S = S} r {ts = ts} made m) rest h =
        chosen r ((sound_of G L r).chosen_of (kind_of G (ts ++ rest)) (expects_row S (G.symbols r) ts rest (begins_of_row m rest) h)) made (read_row S m (sound_of G L r).row_of rest h)

  -- ---- the function reads as the relations say

  abbrev pub Says : (ss : Symbols G) → Tokens G → Outcome G.Token (Values G ss) → Type 0
  Says ss ts (Ok p) = ReadsRow G ss ts p.0 p.1
  Says ss ts (Err rest) = StopsRow G ss ts rest

  abbrev pub SaysSort : (S : G.Sort) → Tokens G → Outcome G.Token (G.Value S) → Type 0
  SaysSort S ts (Ok p) = ReadsSort G S ts p.0 p.1
  SaysSort S ts (Err rest) = StopsSort G S ts rest

  no_longer : {S : G.Sort} {ts rest : Tokens G} {v : G.Value S} → ReadsSort G S ts v rest → length rest ≤ length ts
  no_longer {rest = rest} h = let f = front_of_sort G h in omega (arith, ap length f.cut, length-append f.front rest)

  begun_or_nullable : (S : G.Sort) → BeginsSort S [] [] → L.tables.nullable S ≡ true
  unfolding BeginsSort
  begun_or_nullable S (inl b) = let e : L.tables.begins S G.end ≡ false = L.begins_end S in cc
  begun_or_nullable S (inr e) = e.1

  -- a sort that is not nullable takes a token
  shorter_by : (S : G.Sort) (front rest : Tokens G) (v : G.Value S) → Is G S front v → L.tables.nullable S ≡ false → length rest < length (front ++ rest)
  shorter_by S [] rest v x n = let e = begun_or_nullable S (begins_of_sort x []) in cc
  shorter_by S (t ∷ front) rest v x n = omega (arith, length-append front rest)

  shorter : {S : G.Sort} {ts rest : Tokens G} {v : G.Value S} → ReadsSort G S ts v rest → L.tables.nullable S ≡ false → length rest < length ts
  shorter {S} {ts} {rest} {v} h n = let f = front_of_sort G h in omega (arith, ap length f.cut, shorter_by S f.front rest v f.spelled n)

  token_says : (c : G.Class) (ss : Symbols G) (t : G.Token) (us : Tokens G) → G.has c (G.kind t) ≡ true → (o : Outcome G.Token (Values G ss)) → Says ss us o
      → Says (word c ∷ ss) (t ∷ us) (and_then o (λ vs rest. Ok ((t, vs), rest)))
  token_says c ss t us h (Ok p) s = takes h s
  token_says c ss t us h (Err rest) s = takes_then h s

  expect_says : (reader : Reader G) (c : G.Class) (ss : Symbols G) (t : G.Token) (us : Tokens G) (b : Bool) → G.has c (G.kind t) ≡ b
      → (b ≡ true → Says ss us (row G reader ss us))
      → Says (word c ∷ ss) (t ∷ us) (and_then (if b then Ok (t, us) else Err (t ∷ us)) (λ x ws. and_then (row G reader ss ws) (λ vs rest. Ok ((x, vs), rest))))
  expect_says reader c ss t us true h more = token_says c ss t us h (row G reader ss us) (more refl)
  expect_says reader c ss t us false h more = refused h

  then_says : {S : G.Sort} (ss : Symbols G) {us ws : Tokens G} {v : G.Value S} → ReadsSort G S us v ws → (o : Outcome G.Token (Values G ss)) → Says ss ws o
      → Says (part S ∷ ss) us (and_then o (λ vs rest. Ok ((v, vs), rest)))
  then_says ss r (Ok p) s = reads r s
  then_says ss r (Err rest) s = reads_then r s

  part_says : (reader : Reader G) (S : G.Sort) (ss : Symbols G) (us : Tokens G) (first : Outcome G.Token (G.Value S)) → SaysSort S us first
      → ((v : G.Value S) (ws : Tokens G) → ReadsSort G S us v ws → Says ss ws (row G reader ss ws))
      → Says (part S ∷ ss) us (and_then first (λ v ws. and_then (row G reader ss ws) (λ vs rest. Ok ((v, vs), rest))))
  part_says reader S ss us (Ok p) s more = then_says ss s (row G reader ss p.1) (more p.0 p.1 s)
  part_says reader S ss us (Err rest) s more = within s

  choice_says : (reader : Reader G) (S : G.Sort) (ts : Tokens G) (r : G.Rule S) → G.choose S (kind_of G ts) ≡ Some r → (o : Outcome G.Token (Values G (G.symbols r))) → Says (G.symbols r) ts o
      → SaysSort S ts (and_then o (λ vs rest. Ok (G.make r vs, rest)))
  choice_says reader S ts r c (Ok p) s = chosen r c refl s
  choice_says reader S ts r c (Err rest) s = in_rule r c s

  by_choice_says : (reader : Reader G) (S : G.Sort) (ts : Tokens G) (o : Option (G.Rule S)) → G.choose S (kind_of G ts) ≡ o
      → ((r : G.Rule S) → G.choose S (kind_of G ts) ≡ Some r → Says (G.symbols r) ts (row G reader (G.symbols r) ts)) → SaysSort S ts (by_choice G reader o ts)
  by_choice_says reader S ts None c more = no_rule c
  by_choice_says reader S ts (Some r) c more = choice_says reader S ts r c (row G reader (G.symbols r) ts) (more r c)

  -- any row, over a reader that says what each sort is
  row_says : (reader : Reader G) → ((S : G.Sort) (ts : Tokens G) → SaysSort S ts (reader S ts)) → (ss : Symbols G) (us : Tokens G) → Says ss us (row G reader ss us)
  row_says reader every_sort [] us = done
  row_says reader every_sort (word c ∷ ss) [] = ended
  row_says reader every_sort (word c ∷ ss) (t ∷ us) = expect_says reader c ss t us (G.has c (G.kind t)) refl (λ h. row_says reader every_sort ss us)
  row_says reader every_sort (part S ∷ ss) us = part_says reader S ss us (reader S us) (every_sort S us) (λ v ws r. row_says reader every_sort ss ws)

  -- a row that descends in rank, over a reader that says what the sorts below are
  Below : ℕ → Type 0
  Below n = (S : G.Sort) (ts : Tokens G) → G.ranks * length ts + L.tables.rank S < n → SaysSort S ts (read_by G n S ts)

  descends_all : (ss : Symbols G) → descends G L.tables G.ranks ss ≡ true
  descends_all [] = refl
  descends_all (word c ∷ ss) = refl
  descends_all (part S ∷ ss) = and_both (nat_lt (L.tables.rank S) G.ranks) (not (L.tables.nullable S) || descends G L.tables G.ranks ss) (L.rank_below S) (or_right (not (L.tables.nullable S)) (descends G L.tables G.ranks ss) (descends_all ss))

  times_less : (r a b : ℕ) → a < b → r * a + r ≤ r * b
  times_less r a b h = grind arith

  times_no_less : (r a b : ℕ) → a ≤ b → r * a ≤ r * b
  times_no_less r a b h = grind arith

  next_rank : (n m : ℕ) (S : G.Sort) (ss : Symbols G) (us ws : Tokens G) (v : G.Value S) (b : Bool) → L.tables.nullable S ≡ b → (not b || descends G L.tables m ss) ≡ true
      → ReadsSort G S us v ws → G.ranks * length us + m ≤ n → (k : ℕ) × (descends G L.tables k ss ≡ true) × (G.ranks * length ws + k ≤ n)
  next_rank n m S ss us ws v true e d r h = (m, d, omega (arith, times_no_less G.ranks (length ws) (length us) (no_longer r)))
  next_rank n m S ss us ws v false e d r h = (G.ranks, descends_all ss, omega (arith, times_less G.ranks (length ws) (length us) (shorter r e)))

  descending_says : (n m : ℕ) (ss : Symbols G) (us : Tokens G) → Below n → descends G L.tables m ss ≡ true → G.ranks * length us + m ≤ n → Says ss us (row G (read_by G n) ss us)
  unfolding Below
  descending_says n m [] us below d h = done
  descending_says n m (word c ∷ ss) [] below d h = ended
  descending_says n m (word c ∷ ss) (t ∷ us) below d h = expect_says (read_by G n) c ss t us (G.has c (G.kind t)) refl (λ g. descending_says n G.ranks ss us below (descends_all ss) (omega (arith, times_less G.ranks (length us) (suc (length us)) (omega arith))))
  descending_says n m (part S ∷ ss) us below d h =
      let split = both (nat_lt (L.tables.rank S) m) (not (L.tables.nullable S) || descends G L.tables m ss) d in
      let lt : L.tables.rank S < m = ltb-true (L.tables.rank S) m split.0 in
      part_says (read_by G n) S ss us (read_by G n S us) (below S us (omega arith))
      (λ v ws r. let next = next_rank n m S ss us ws v (L.tables.nullable S) refl split.1 r h in descending_says n next.0 ss ws below next.1 next.2)

  below_suc : (n : ℕ) → Below n → Below (suc n)
  unfolding Below
  below_suc n below S ts h = by_choice_says (read_by G n) S ts (G.choose S (kind_of G ts)) refl
      (λ r c. descending_says n (L.tables.rank S) (G.symbols r) ts below (sound_of G L r).descends_of (omega arith))

  below : (n : ℕ) → Below n
  unfolding Below
  below zero S ts h = absurd (omega arith)
  below (suc n) S ts h = below_suc n (below n) S ts h

  pub read_says : (S : G.Sort) (ts : Tokens G) → SaysSort S ts (read G S ts)
  unfolding read Below
  read_says S ts = let r : L.tables.rank S < G.ranks = ltb-true (L.tables.rank S) G.ranks (L.rank_below S) in below (suc (G.ranks * length ts + G.ranks)) S ts (omega arith)

  -- ---- the equation by which the code reads

  pub one_outcome : (S : G.Sort) (ts : Tokens G) (a b : Outcome G.Token (G.Value S)) → SaysSort S ts a → SaysSort S ts b → a ≡ b
  one_outcome S ts (Ok p) (Ok q) s t = let e = same_sort G s t in ap Ok (ap (λ v. (v, p.1)) e.values ∙ ap (λ us. (q.0, us)) e.rests)
  one_outcome S ts (Ok p) (Err us) s t = absurd (no_read_stop_sort G s t)
  one_outcome S ts (Err us) (Ok p) s t = absurd (no_read_stop_sort G t s)
  one_outcome S ts (Err us) (Err ws) s t = ap Err (same_stop_sort G s t)

  pub read_equation : (S : G.Sort) (ts : Tokens G) → read G S ts ≡ by_choice G (read G) (G.choose S (kind_of G ts)) ts
  read_equation S ts = one_outcome S ts (read G S ts) (by_choice G (read G) (G.choose S (kind_of G ts)) ts) (read_says S ts)
      (by_choice_says (read G) S ts (G.choose S (kind_of G ts)) refl (λ r c. row_says (read G) read_says (G.symbols r) ts))
