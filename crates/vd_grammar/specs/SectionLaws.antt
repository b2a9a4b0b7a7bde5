-- From the tokens of a text to the answer, and that there is one.
use Rattle.std.proofs.Common.{ℕ, ◌≡◌, ◌≢◌, ◌<◌, ◌≤◌, Bool, true, false, [], ◌∷◌, ◌++◌, take, Result, Ok, Err, refl, sym, ◌∙◌, ap, subst, arith, append_assoc}
use Rattle.std.proofs.lemmas.List.{append-nil}
use Rattle.vd_grammar.specs.declared.fault.ParseFault.{ParseFault}
use Rattle.vd_grammar.specs.declared.fault.ParseFault.TheVariants.{Bad, Deep, Memory}
use Rattle.vd_grammar.specs.declared.fault.Cause.{Cause}
use Rattle.vd_grammar.specs.declared.fault.Cause.TheVariants as cause
use Rattle.vd_grammar.specs.Grammar.{Grammar, Tokens, Is, Begins}
use Rattle.vd_grammar.specs.Reading.{read}
use Rattle.vd_grammar.specs.Whole.{Refuses}
use Rattle.vd_grammar.specs.Nesting.{Nesting, state_from, state_of, nesting, IsShallow}
use Rattle.vd_grammar.specs.Section.{place_or, CannotFollow, IsSection, IsBadAt, IsDeepAt, Answers, IsCut, whole_text, at_unknown, at_deep, is_whole, fault_at}
use Rattle.vd_grammar.specs.Tables.{Laws}
use Rattle.vd_grammar.specs.Lists.{Fronts, same, first_ends, second_ends, two_fronts, SnocCut, behind, before, snoc_cut}
use Rattle.vd_grammar.specs.Exact.{begins_next, one_value, read_is_whole, left_refuses, stop_refuses}

module _ (G : Grammar) (N : Nesting G) where
  -- ---- nesting

  state_from-append : (state : N.State) (xs ys : Tokens G) → state_from G N state (xs ++ ys) ≡ state_from G N (state_from G N state xs) ys
  state_from-append state [] ys = refl
  state_from-append state (x ∷ xs) ys = state_from-append (N.after x state) xs ys

  pub state_of-next : (ts : Tokens G) (t : G.Token) → state_of G N (ts ++ t ∷ []) ≡ N.after t (state_of G N ts)
  state_of-next ts t = state_from-append N.start ts (t ∷ [])

  pub shallow_start : IsShallow G N []
  shallow_start = record { below = λ front rest cut. by_front front rest cut }
    where
      by_front : (front rest : Tokens G) → [] ≡ front ++ rest → nesting G N front < N.limit
      by_front [] rest h = N.start_below
      by_front (x ∷ front) rest h = cc

  pub shallow_next : (ts : Tokens G) (t : G.Token) → IsShallow G N ts → nesting G N (ts ++ t ∷ []) < N.limit → IsShallow G N (ts ++ t ∷ [])
  shallow_next ts t s h = record { below = λ front rest cut. by_cut front rest (snoc_cut ts t front rest cut) }
    where
      by_cut : (front rest : Tokens G) → SnocCut ts t front rest → nesting G N front < N.limit
      by_cut front rest (behind e) = subst (λ x. nesting G N x < N.limit) (sym e) h
      by_cut front rest (before others e) = s.below front others e

  pub shallow_front : (ts front rest : Tokens G) → IsShallow G N ts → ts ≡ front ++ rest → IsShallow G N front
  shallow_front ts front rest s e = record { below = λ xs ys cut. s.below xs (ys ++ rest) (e ∙ (ap (λ x. x ++ rest) cut ∙ append_assoc xs ys rest)) }

  not_deep : (ts front rest : Tokens G) → IsShallow G N ts → ts ≡ front ++ rest → N.limit ≤ nesting G N front → ⊥
  not_deep ts front rest s e h = let l = s.below front rest e in omega arith

  module _ (place : G.Token → ℕ) where
    -- ---- the loop that finds the first token that is nested too deeply

    -- The tokens found are the front of all, none is nested too deeply, and this is the state behind them.
    pub record Cutting (ts found left : Tokens G) (state : N.State) : Type 0 where
      pub cut : ts ≡ found ++ left
      pub shallow : IsShallow G N found
      pub state_is : state ≡ state_of G N found
      pub below : N.depth state < N.limit

    pub cutting_start : (ts : Tokens G) → Cutting ts [] ts N.start
    cutting_start ts = record { cut = refl; shallow = shallow_start; state_is = refl; below = N.start_below }

    next_state : (found : Tokens G) (t : G.Token) (state : N.State) → state ≡ state_of G N found → N.after t state ≡ state_of G N (found ++ t ∷ [])
    next_state found t state h = ap (N.after t) h ∙ sym (state_of-next found t)

    pub cutting_next : (ts found left : Tokens G) (t : G.Token) (state after : N.State) → Cutting ts found (t ∷ left) state → after ≡ N.after t state → N.depth after < N.limit → Cutting ts (found ++ t ∷ []) left after
    cutting_next ts found left t state after c e h =
        let s = e ∙ next_state found t state c.state_is in
        record { cut = c.cut ∙ sym (append_assoc found (t ∷ []) left); shallow = shallow_next found t c.shallow (subst (λ x. N.depth x < N.limit) s h); state_is = s; below = h }

    pub cutting_deep : (ts found left : Tokens G) (t : G.Token) (state after : N.State) (is_text : Bool) (end at : ℕ) → Cutting ts found (t ∷ left) state → after ≡ N.after t state → N.limit ≤ N.depth after → at ≡ place t
        → IsCut G N place ts is_text end found cause.Deep at
    cutting_deep ts found left t state after is_text end at c e h p =
        at_deep t left c.cut c.shallow (subst (λ x. N.limit ≤ N.depth x) (e ∙ next_state found t state c.state_is) h) p

    all_found : (ts found : Tokens G) (state : N.State) → Cutting ts found [] state → ts ≡ found
    all_found ts found state c = c.cut ∙ append-nil found

    pub cutting_text : (ts found : Tokens G) (state : N.State) (end : ℕ) → Cutting ts found [] state → IsCut G N place ts true end found cause.Text end
    cutting_text ts found state end c = let e = all_found ts found state c in subst (λ x. IsCut G N place x true end found cause.Text end) (sym e) (whole_text c.shallow)

    pub cutting_unknown : (ts found : Tokens G) (state : N.State) (end : ℕ) → Cutting ts found [] state → IsCut G N place ts false end found cause.Unknown end
    cutting_unknown ts found state end c = let e = all_found ts found state c in subst (λ x. IsCut G N place x false end found cause.Unknown end) (sym e) (at_unknown c.shallow)

    module _ (L : Laws G) (S : G.Sort) (may_end : L.tables.follows S G.end ≡ true) where
      -- ---- the answer

      value_begins : (ts : Tokens G) (v : G.Value S) → Is G S ts v → Begins G S ts
      value_begins ts v x = record { more = []; value = v; whole = subst (λ xs. Is G S xs v) (sym (append-nil ts)) x }

      none_left_begins : (ts : Tokens G) → Refuses G S ts [] → Begins G S ts
      none_left_begins ts r = subst (Begins G S) (sym (r.cut ∙ append-nil r.front)) r.begins

      bad_token : (ts ms others : Tokens G) (is_text : Bool) (end : ℕ) (t : G.Token) (rest : Tokens G) → ts ≡ ms ++ others → IsShallow G N ms → Refuses G S ms (t ∷ rest) → IsBadAt G N place S ts is_text end (place t)
      bad_token ts ms others is_text end t rest e s r = record {
        front = r.front;
        rest = t ∷ (rest ++ others);
        cut = e ∙ (ap (λ x. x ++ others) r.cut ∙ append_assoc r.front (t ∷ rest) others);
        begins = r.begins;
        cannot = cannot is_text;
        shallow = shallow_front ms (r.front ++ t ∷ []) rest s (r.cut ∙ sym (append_assoc r.front (t ∷ []) rest));
        place_is = refl;
      }
        where
          cannot : (b : Bool) → CannotFollow G N place S b r.front (t ∷ (rest ++ others))
          cannot true = r.refused
          cannot false = r.refused

      bad_end : (ts : Tokens G) (end : ℕ) → IsShallow G N ts → Refuses G S ts [] → IsBadAt G N place S ts true end end
      bad_end ts end s r = record {
        front = r.front;
        rest = [];
        cut = r.cut;
        begins = r.begins;
        cannot = r.refused;
        shallow = subst (IsShallow G N) r.cut s;
        place_is = refl;
      }

      bad_unknown : (ts : Tokens G) (end : ℕ) → IsShallow G N ts → Begins G S ts → IsBadAt G N place S ts false end end
      bad_unknown ts end s b = record {
        front = ts;
        rest = [];
        cut = sym (append-nil ts);
        begins = b;
        cannot = tt;
        shallow = subst (IsShallow G N) (sym (append-nil ts)) s;
        place_is = refl;
      }

      token_answer : (ts ms : Tokens G) (is_text : Bool) (end at : ℕ) (why : Cause) (t : G.Token) (rest : Tokens G) → IsCut G N place ts is_text end ms why at → Refuses G S ms (t ∷ rest) → IsBadAt G N place S ts is_text end (place t)
      token_answer ts ms is_text end at why t rest (whole_text s) r = bad_token ts ts [] true end t rest (sym (append-nil ts)) s r
      token_answer ts ms is_text end at why t rest (at_unknown s) r = bad_token ts ts [] false end t rest (sym (append-nil ts)) s r
      token_answer ts ms is_text end at why t rest (at_deep next others c s d p) r = bad_token ts ms (next ∷ others) is_text end t rest c s r

      deep_next : (ts ms others : Tokens G) (next : G.Token) (at : ℕ) → ts ≡ ms ++ next ∷ others → IsShallow G N ms → N.limit ≤ nesting G N (ms ++ next ∷ []) → at ≡ place next → Begins G S ms → IsDeepAt G N place S ts at
      deep_next ts ms others next at e s d p b = record { front = ms; next = next; rest = others; cut = e; begins = b; shallow = s; deep = d; place_is = p }

      -- Where all tokens up to the cut are read, the text is the section.
      pub section_answer : (ts ms : Tokens G) (is_text : Bool) (end at : ℕ) (why : Cause) (v : G.Value S) (rest : Tokens G) → IsCut G N place ts is_text end ms why at → read G S ms ≡ Ok (v, rest) → is_whole G N place rest why ≡ true
          → Answers G N place S ts is_text end (Ok v)
      section_answer ts ms is_text end at why v [] (whole_text s) h e = record { is = read_is_whole G L S may_end ts v [] h refl; ends = refl; shallow = s }
      section_answer ts ms is_text end at why v [] (at_unknown s) h e = cc
      section_answer ts ms is_text end at why v [] (at_deep next others c s d p) h e = cc
      section_answer ts ms is_text end at why v (t ∷ rest) c h e = cc

      -- Where tokens up to the cut are left, or the text goes on, the fault is at what comes next.
      pub left_answer : (ts ms : Tokens G) (is_text : Bool) (end at : ℕ) (why : Cause) (v : G.Value S) (rest : Tokens G) → IsCut G N place ts is_text end ms why at → read G S ms ≡ Ok (v, rest) → is_whole G N place rest why ≡ false
          → Answers G N place S ts is_text end (Err (fault_at G N place rest why at))
      left_answer ts ms is_text end at why v [] (whole_text s) h e = cc
      left_answer ts ms is_text end at why v [] (at_unknown s) h e = bad_unknown ts end s (value_begins ts v (read_is_whole G L S may_end ts v [] h refl))
      left_answer ts ms is_text end at why v [] (at_deep next others c s d p) h e = deep_next ts ms others next at c s d p (value_begins ms v (read_is_whole G L S may_end ms v [] h refl))
      left_answer ts ms is_text end at why v (t ∷ rest) c h e = token_answer ts ms is_text end at why t rest c (left_refuses G L S may_end ms v (t ∷ rest) h refl)

      -- Where reading stops, the fault is at what comes next.
      pub stop_answer : (ts ms : Tokens G) (is_text : Bool) (end at : ℕ) (why : Cause) (rest : Tokens G) → IsCut G N place ts is_text end ms why at → read G S ms ≡ Err rest → Answers G N place S ts is_text end (Err (fault_at G N place rest why at))
      stop_answer ts ms is_text end at why [] (whole_text s) h = bad_end ts end s (stop_refuses G L S may_end ts [] h)
      stop_answer ts ms is_text end at why [] (at_unknown s) h = bad_unknown ts end s (none_left_begins ts (stop_refuses G L S may_end ts [] h))
      stop_answer ts ms is_text end at why [] (at_deep next others c s d p) h = deep_next ts ms others next at c s d p (none_left_begins ms (stop_refuses G L S may_end ms [] h))
      stop_answer ts ms is_text end at why (t ∷ rest) c h = token_answer ts ms is_text end at why t rest c (stop_refuses G L S may_end ms (t ∷ rest) h)

      -- ---- there is one answer

      further : (ts us : Tokens G) (t : G.Token) (more : Tokens G) → ts ≡ us ++ t ∷ more → Begins G S ts → Begins G S (us ++ t ∷ [])
      further ts us t more e b = begins_next G L S may_end us t more (subst (Begins G S) e b)

      cannot_next : (is_text : Bool) (front us : Tokens G) (t : G.Token) (more : Tokens G) → us ≡ t ∷ more → CannotFollow G N place S is_text front us → Begins G S (front ++ t ∷ []) → ⊥
      cannot_next is_text front us t more e c b = by_text is_text (subst (CannotFollow G N place S is_text front) e c)
        where
          by_text : (x : Bool) → CannotFollow G N place S x front (t ∷ more) → ⊥
          by_text true h = h b
          by_text false h = h b

      not_bad_further : (is_text : Bool) (xs us ys ws : Tokens G) (t : G.Token) (more : Tokens G) → us ≡ t ∷ (more ++ ws) → ys ≡ xs ++ t ∷ more → CannotFollow G N place S is_text xs us → Begins G S ys → ⊥
      not_bad_further is_text xs us ys ws t more e h c b = cannot_next is_text xs us t (more ++ ws) e c (further ys xs t more h b)

      one_bad : (ts : Tokens G) (is_text : Bool) (end at other : ℕ) → IsBadAt G N place S ts is_text end at → IsBadAt G N place S ts is_text end other → at ≡ other
      one_bad ts is_text end at other x y = by_fronts (two_fronts x.front x.rest y.front y.rest (sym x.cut ∙ y.cut))
        where
          by_fronts : Fronts x.front x.rest y.front y.rest → at ≡ other
          by_fronts (same e h) = x.place_is ∙ (ap (place_or G N place end) h ∙ sym y.place_is)
          by_fronts (first_ends t more e h) = absurd (not_bad_further is_text x.front x.rest y.front y.rest t more e h x.cannot y.begins)
          by_fronts (second_ends t more e h) = absurd (not_bad_further is_text y.front y.rest x.front x.rest t more e h y.cannot x.begins)

      next_in : (xs us : Tokens G) (t : G.Token) (more : Tokens G) → us ≡ t ∷ more → xs ++ take 1 us ≡ xs ++ t ∷ []
      next_in xs us t more e = ap (λ x. xs ++ take 1 x) e

      bad_not_deep : (ts : Tokens G) (is_text : Bool) (end at other : ℕ) → IsBadAt G N place S ts is_text end at → IsDeepAt G N place S ts other → ⊥
      bad_not_deep ts is_text end at other x y = by_fronts (two_fronts x.front x.rest y.front (y.next ∷ y.rest) (sym x.cut ∙ y.cut))
        where
          by_fronts : Fronts x.front x.rest y.front (y.next ∷ y.rest) → ⊥
          by_fronts (same e h) = not_deep (x.front ++ take 1 x.rest) (y.front ++ y.next ∷ []) [] x.shallow
              (next_in x.front x.rest y.next y.rest h ∙ (ap (λ z. z ++ y.next ∷ []) e ∙ sym (append-nil (y.front ++ y.next ∷ [])))) y.deep
          by_fronts (first_ends t more e h) = not_bad_further is_text x.front x.rest y.front (y.next ∷ y.rest) t more e h x.cannot y.begins
          by_fronts (second_ends t more e h) =
              let first : y.next ≡ t = cc in
              not_deep (x.front ++ take 1 x.rest) (y.front ++ y.next ∷ []) (more ++ take 1 x.rest) x.shallow
              (ap (λ z. z ++ take 1 x.rest) h ∙ (append_assoc y.front (t ∷ more) (take 1 x.rest) ∙ (ap (λ z. y.front ++ z ∷ (more ++ take 1 x.rest)) (sym first) ∙ sym (append_assoc y.front (y.next ∷ []) (more ++ take 1 x.rest))))) y.deep

      deep_within : (front ys ws : Tokens G) (next t : G.Token) (rest more : Tokens G) → IsShallow G N ys → N.limit ≤ nesting G N (front ++ next ∷ []) → next ∷ rest ≡ t ∷ (more ++ ws) → ys ≡ front ++ t ∷ more → ⊥
      deep_within front ys ws next t rest more s d e h =
          let first : next ≡ t = cc in
          not_deep ys (front ++ next ∷ []) more s (h ∙ (ap (λ z. front ++ z ∷ more) (sym first) ∙ sym (append_assoc front (next ∷ []) more))) d

      one_deep : (ts : Tokens G) (at other : ℕ) → IsDeepAt G N place S ts at → IsDeepAt G N place S ts other → at ≡ other
      one_deep ts at other x y = by_fronts (two_fronts x.front (x.next ∷ x.rest) y.front (y.next ∷ y.rest) (sym x.cut ∙ y.cut))
        where
          by_fronts : Fronts x.front (x.next ∷ x.rest) y.front (y.next ∷ y.rest) → at ≡ other
          by_fronts (same e h) = let first : x.next ≡ y.next = cc in x.place_is ∙ (ap place first ∙ sym y.place_is)
          by_fronts (first_ends t more e h) = absurd (deep_within x.front y.front (y.next ∷ y.rest) x.next t x.rest more y.shallow x.deep e h)
          by_fronts (second_ends t more e h) = absurd (deep_within y.front x.front (x.next ∷ x.rest) y.next t y.rest more x.shallow y.deep e h)

      section_not_bad : (ts : Tokens G) (is_text : Bool) (end at : ℕ) (v : G.Value S) → IsSection G N place S ts is_text v → IsBadAt G N place S ts is_text end at → ⊥
      section_not_bad ts is_text end at v x y = by_rest y.rest y.cut (subst (λ b. CannotFollow G N place S b y.front y.rest) x.ends y.cannot)
        where
          by_rest : (rest : Tokens G) → ts ≡ y.front ++ rest → CannotFollow G N place S true y.front rest → ⊥
          by_rest [] e c = c v (subst (λ xs. Is G S xs v) (e ∙ append-nil y.front) x.is)
          by_rest (t ∷ rest) e c = c (further ts y.front t rest e (value_begins ts v x.is))

      section_not_deep : (ts : Tokens G) (is_text : Bool) (at : ℕ) (v : G.Value S) → IsSection G N place S ts is_text v → IsDeepAt G N place S ts at → ⊥
      section_not_deep ts is_text at v x y = not_deep ts (y.front ++ y.next ∷ []) y.rest x.shallow (y.cut ∙ sym (append_assoc y.front (y.next ∷ []) y.rest)) y.deep

      -- Whatever answers the text but for memory is the answer.
      pub one_answer : (ts : Tokens G) (is_text : Bool) (end : ℕ) (a b : Result (G.Value S) ParseFault) → Answers G N place S ts is_text end a → Answers G N place S ts is_text end b → a ≢ Err Memory → b ≢ Err Memory → a ≡ b
      one_answer ts is_text end (Err Memory) b x y n m = absurd (n refl)
      one_answer ts is_text end (Ok v) (Ok w) x y n m = ap Ok (one_value G L S may_end ts v w x.is y.is)
      one_answer ts is_text end (Ok v) (Err (Bad at)) x y n m = absurd (section_not_bad ts is_text end at v x y)
      one_answer ts is_text end (Ok v) (Err (Deep at)) x y n m = absurd (section_not_deep ts is_text at v x y)
      one_answer ts is_text end (Ok v) (Err Memory) x y n m = absurd (m refl)
      one_answer ts is_text end (Err (Bad at)) (Ok w) x y n m = absurd (section_not_bad ts is_text end at w y x)
      one_answer ts is_text end (Err (Bad at)) (Err (Bad other)) x y n m = ap (λ p. Err (Bad p)) (one_bad ts is_text end at other x y)
      one_answer ts is_text end (Err (Bad at)) (Err (Deep other)) x y n m = absurd (bad_not_deep ts is_text end at other x y)
      one_answer ts is_text end (Err (Bad at)) (Err Memory) x y n m = absurd (m refl)
      one_answer ts is_text end (Err (Deep at)) (Ok w) x y n m = absurd (section_not_deep ts is_text at w y x)
      one_answer ts is_text end (Err (Deep at)) (Err (Bad other)) x y n m = absurd (bad_not_deep ts is_text end other at y x)
      one_answer ts is_text end (Err (Deep at)) (Err (Deep other)) x y n m = ap (λ p. Err (Deep p)) (one_deep ts at other x y)
      one_answer ts is_text end (Err (Deep at)) (Err Memory) x y n m = absurd (m refl)
