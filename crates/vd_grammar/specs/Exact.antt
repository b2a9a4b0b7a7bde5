-- What reading says of the grammar: the theorems that a reader's contract rests on.
use Rattle.std.proofs.Common.{◌≡◌, true, false, List, [], ◌∷◌, ◌++◌, Ok, Err, refl, sym, ◌∙◌, ap, subst, append_assoc}
use Rattle.std.proofs.lemmas.List.{append-nil}
use Rattle.vd_grammar.specs.Outcome.{Outcome}
use Rattle.vd_grammar.specs.Grammar.{Grammar, Tokens, kind_of, Is, Begins}
use Rattle.vd_grammar.specs.Reading.{by_choice, read}
use Rattle.vd_grammar.specs.Lists.{Fronts, same, first_ends, second_ends, two_fronts}
use Rattle.vd_grammar.specs.Whole.{is_empty, all_read, whole, HasFront, IsRefused, Refuses}
use Rattle.vd_grammar.specs.Tables.{Laws}
use Rattle.vd_grammar.specs.Descent.{ReadsSort, StopsSort, front_of_sort, same_sort, no_read_stop_sort}
use Rattle.vd_grammar.specs.Fronts.{stop_front_sort}
use Rattle.vd_grammar.specs.Completeness.{SaysSort, read_says, read_sort, one_outcome, read_equation}

all_read-ok : {Token A : Type 0} (o : Outcome Token A) (v : A) → all_read o ≡ Ok v → o ≡ Ok (v, [])
all_read-ok (Ok (w, [])) v h = let e : w ≡ v = cc in ap (λ x. Ok (x, [])) e
all_read-ok (Ok (w, t ∷ ts)) v h = cc
all_read-ok (Err rest) v h = cc

-- why a whole is refused: reading stops, or tokens are left
data Fault {Token A : Type 0} (o : Outcome Token A) (rest : List Token) : Type 0 where
  stops : o ≡ Err rest → Fault o rest
  leaves : (v : A) (t : Token) (ts : List Token) → rest ≡ t ∷ ts → o ≡ Ok (v, t ∷ ts) → Fault o rest

all_read-err : {Token A : Type 0} (o : Outcome Token A) (rest : List Token) → all_read o ≡ Err rest → Fault o rest
all_read-err (Ok (w, [])) rest h = cc
all_read-err (Ok (w, t ∷ ts)) rest h = leaves w t ts (let e : t ∷ ts ≡ rest = cc in sym e) refl
all_read-err (Err us) rest h = stops (let e : us ≡ rest = cc in ap Err e)

module _ (G : Grammar) (L : Laws G) where
  -- The equation by which the code reads: a sort is read by the rule that the next token chooses.
  pub read_is : (S : G.Sort) (ts : Tokens G) → read G S ts ≡ by_choice G (read G) (G.choose S (kind_of G ts)) ts
  read_is = read_equation G L

  reads_of : (S : G.Sort) (ts : Tokens G) (v : G.Value S) (rest : Tokens G) → read G S ts ≡ Ok (v, rest) → ReadsSort G S ts v rest
  reads_of S ts v rest h = subst (SaysSort G L S ts) h (read_says G L S ts)

  stops_of : (S : G.Sort) (ts rest : Tokens G) → read G S ts ≡ Err rest → StopsSort G S ts rest
  stops_of S ts rest h = subst (SaysSort G L S ts) h (read_says G L S ts)

  -- What is read is so.
  pub read_sound : (S : G.Sort) (ts : Tokens G) (v : G.Value S) (rest : Tokens G) → read G S ts ≡ Ok (v, rest) → HasFront G S ts v rest
  read_sound S ts v rest h = let f = front_of_sort G (reads_of S ts v rest h) in record { front = f.front; cut = f.cut; is = f.spelled }

  -- What is so is read, where what comes next may follow.
  pub read_complete : (S : G.Sort) (xs : Tokens G) (v : G.Value S) → Is G S xs v → (rest : Tokens G) → L.tables.follows S (kind_of G rest) ≡ true → read G S (xs ++ rest) ≡ Ok (v, rest)
  read_complete S xs v x rest h = one_outcome G L S (xs ++ rest) (read G S (xs ++ rest)) (Ok (v, rest)) (read_says G L S (xs ++ rest)) (read_sort G L x rest h)

  -- The tokens in front of where reading stops begin a phrase of the sort.
  pub record StopsBehind (S : G.Sort) (ts rest : Tokens G) : Type 0 where
    pub front : Tokens G
    pub cut : ts ≡ front ++ rest
    pub begins : Begins G S front

  pub read_stops : (S : G.Sort) (ts rest : Tokens G) → read G S ts ≡ Err rest → StopsBehind S ts rest
  read_stops S ts rest h = let f = stop_front_sort G L (stops_of S ts rest h) in
      record { front = f.front; cut = f.cut; begins = record { more = f.more; value = f.value; whole = f.spelled } }

  -- ---- a sort that may stand alone

  module _ (S : G.Sort) (may_end : L.tables.follows S G.end ≡ true) where
    read_alone : (xs : Tokens G) (v : G.Value S) → Is G S xs v → read G S xs ≡ Ok (v, [])
    read_alone xs v x = subst (λ ys. read G S ys ≡ Ok (v, [])) (append-nil xs) (read_complete S xs v x [] may_end)

    pub whole_complete : (ts : Tokens G) (v : G.Value S) → Is G S ts v → whole G S ts ≡ Ok v
    whole_complete ts v x = ap all_read (read_alone ts v x)

    -- Tokens have one syntax.
    pub one_value : (ts : Tokens G) (v w : G.Value S) → Is G S ts v → Is G S ts w → v ≡ w
    one_value ts v w x y = let e : Ok v ≡ Ok w = sym (whole_complete ts v x) ∙ whole_complete ts w y in cc

    pub whole_sound : (ts : Tokens G) (v : G.Value S) → whole G S ts ≡ Ok v → Is G S ts v
    whole_sound ts v h =
        let f = read_sound S ts v [] (all_read-ok (read G S ts) v h) in
        subst (λ xs. Is G S xs v) (sym (f.cut ∙ append-nil f.front)) f.is

    reads_alone : (xs : Tokens G) (v : G.Value S) → Is G S xs v → ReadsSort G S xs v []
    reads_alone xs v x = reads_of S xs v [] (read_alone xs v x)

    -- With the next token the tokens in front would be read as they are not.
    refuses_stop : (ts rest : Tokens G) → StopsSort G S ts rest → Refuses G S ts rest
    refuses_stop ts [] s = let f = stop_front_sort G L s in record {
      front = f.front;
      cut = f.cut;
      begins = record { more = f.more; value = f.value; whole = f.spelled };
      refused = λ v x. no_read_stop_sort G (reads_alone ts v (subst (λ xs. Is G S xs v) (sym (f.cut ∙ append-nil f.front)) x)) s;
    }
    refuses_stop ts (t ∷ rest) s = let f = stop_front_sort G L s in record {
      front = f.front;
      cut = f.cut;
      begins = record { more = f.more; value = f.value; whole = f.spelled };
      refused = λ b. no_read_stop_sort G (reads_alone (f.front ++ t ∷ b.more) b.value (subst (λ xs. Is G S xs b.value) (append_assoc f.front (t ∷ []) b.more) b.whole))
          (f.local (t ∷ b.more) (record { kinds = refl; ends = refl }));
    }

    more_left : (t : G.Token) (ts : Tokens G) → t ∷ ts ≡ [] → ⊥
    more_left t ts h = cc

    refuses_left : (ts : Tokens G) (v : G.Value S) (t : G.Token) (rest : Tokens G) → ReadsSort G S ts v (t ∷ rest) → Refuses G S ts (t ∷ rest)
    refuses_left ts v t rest r = let f = front_of_sort G r in record {
      front = f.front;
      cut = f.cut;
      begins = record { more = []; value = v; whole = subst (λ xs. Is G S xs v) (sym (append-nil f.front)) f.spelled };
      refused = λ b. more_left t b.more (same_sort G (f.local (t ∷ b.more) (record { kinds = refl; ends = refl }))
          (reads_alone (f.front ++ t ∷ b.more) b.value (subst (λ xs. Is G S xs b.value) (append_assoc f.front (t ∷ []) b.more) b.whole))).rests;
    }

    refuses_fault : (ts rest : Tokens G) → Fault (read G S ts) rest → Refuses G S ts rest
    refuses_fault ts rest (stops h) = refuses_stop ts rest (stops_of S ts rest h)
    refuses_fault ts rest (leaves v t us e h) = subst (Refuses G S ts) (sym e) (refuses_left ts v t us (reads_of S ts v (t ∷ us) h))

    -- Where tokens are refused, the ones in front begin a phrase, and with the next one they begin none.
    pub whole_refuses : (ts rest : Tokens G) → whole G S ts ≡ Err rest → Refuses G S ts rest
    whole_refuses ts rest h = refuses_fault ts rest (all_read-err (read G S ts) rest h)

    pub begins_next : (front : Tokens G) (t : G.Token) (more : Tokens G) → Begins G S (front ++ t ∷ more) → Begins G S (front ++ t ∷ [])
    begins_next front t more b = record {
      more = more ++ b.more;
      value = b.value;
      whole = subst (λ xs. Is G S xs b.value) (append_assoc front (t ∷ more) b.more ∙ sym (append_assoc front (t ∷ []) (more ++ b.more))) b.whole;
    }

    not_further : (xs us : Tokens G) (t : G.Token) (more ys ws : Tokens G) → us ≡ t ∷ (more ++ ws) → ys ≡ xs ++ t ∷ more → IsRefused G S xs us → Begins G S ys → ⊥
    not_further xs us t more ys ws e h refused b =
        let r : IsRefused G S xs (t ∷ (more ++ ws)) = subst (IsRefused G S xs) e refused in
        r (begins_next xs t more (subst (Begins G S) h b))

    one_rest : (ts rest others : Tokens G) (r : Refuses G S ts rest) (q : Refuses G S ts others) → Fronts r.front rest q.front others → rest ≡ others
    one_rest ts rest others r q (same e h) = h
    one_rest ts rest others r q (first_ends t more e h) = absurd (not_further r.front rest t more q.front others e h r.refused q.begins)
    one_rest ts rest others r q (second_ends t more e h) = absurd (not_further q.front others t more r.front rest e h q.refused r.begins)

    -- Tokens are refused at one place.
    pub one_refusal : (ts rest others : Tokens G) → Refuses G S ts rest → Refuses G S ts others → rest ≡ others
    one_refusal ts rest others r q = one_rest ts rest others r q (two_fronts r.front rest q.front others (sym r.cut ∙ q.cut))

    -- What is a phrase is refused nowhere.
    pub no_refusal : (ts : Tokens G) (v : G.Value S) (rest : Tokens G) → Is G S ts v → Refuses G S ts rest → ⊥
    no_refusal ts v [] x r = r.refused v (subst (λ xs. Is G S xs v) (r.cut ∙ append-nil r.front) x)
    no_refusal ts v (t ∷ rest) x r = r.refused (begins_next r.front t rest (record { more = []; value = v; whole = subst (λ xs. Is G S xs v) (r.cut ∙ sym (append-nil (r.front ++ t ∷ rest))) x }))

    -- ---- what a reader answers, by what it reads

    pub read_is_whole : (ts : Tokens G) (v : G.Value S) (rest : Tokens G) → read G S ts ≡ Ok (v, rest) → is_empty rest ≡ true → Is G S ts v
    read_is_whole ts v [] h e = whole_sound ts v (ap all_read h)
    read_is_whole ts v (t ∷ rest) h e = cc

    pub left_refuses : (ts : Tokens G) (v : G.Value S) (rest : Tokens G) → read G S ts ≡ Ok (v, rest) → is_empty rest ≡ false → Refuses G S ts rest
    left_refuses ts v [] h e = cc
    left_refuses ts v (t ∷ rest) h e = whole_refuses ts (t ∷ rest) (ap all_read h)

    pub stop_refuses : (ts rest : Tokens G) → read G S ts ≡ Err rest → Refuses G S ts rest
    stop_refuses ts rest h = whole_refuses ts rest (ap all_read h)
