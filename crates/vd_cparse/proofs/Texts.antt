-- From the tokens of a section to what a reader answers, and that a text has one answer.
use Rattle.std.proofs.Common.{ℕ, ◌+◌, ◌≡◌, ◌≢◌, inl, inr, Bool, true, false, List, ◌∷◌, ◌++◌, take, drop, codes, Option, Some, None, Result, Ok, Err, refl, sym, ◌∙◌, ap, subst}
use Rattle.vd_grammar.specs.declared.fault.ParseFault.{ParseFault}
use Rattle.vd_grammar.specs.declared.fault.ParseFault.TheVariants as fault
use Rattle.vd_grammar.specs.declared.fault.Cause.{Cause}
use Rattle.vd_grammar.specs.Section.{whole_text, at_unknown, at_deep}
use Rattle.vd_grammar.specs.SectionLaws.{one_answer}
use Rattle.vd_tokens.specs.declared.alphabet.Alphabet.{Alphabet}
use Rattle.vd_tokens.specs.declared.token.End.{End}
use Rattle.vd_tokens.specs.declared.token.End.TheVariants as last
use Rattle.vd_tokens.specs.Text.{Tokenizes}
use Rattle.vd_tokens.specs.OneText.{one_tokenization}
use Rattle.vd_tokens.specs.declared.alphabet.Alphabet.TheVariants.{Declaration}
use Rattle.std.specs.Str.{bytes_eq}
use Rattle.vd_cgrammar.specs.declared.parts.Decl.{Decl}
use Rattle.vd_cgrammar.specs.declared.kind.Kind.TheVariants as k
use Rattle.vd_cgrammar.specs.Lexeme.{Lexeme}
use Rattle.vd_cgrammar.specs.Fits.{all_fit}
use Rattle.vd_cparse.specs.Fronts.{IsContent, IsFront, IsFirstPlace, HasFront}
use Rattle.vd_cgrammar.specs.Grammar.{Sort, Value, StructSection, GlobalSection, grammar}
use Rattle.vd_cparse.specs.HeaderLine.{word_of, found, missing, header_of, end_at}
use Rattle.vd_cgrammar.specs.Nesting.{nesting}
use Rattle.vd_cgrammar.specs.Tokens.{place, IsCut, Answers}
use Rattle.vd_cparse.specs.Section.{is_text, place_of_end, end_line, Lexes, Continues, HasTokensBy, HasTokens, IsHeaderFault, IsRead, AnswersText, AnswersDeclBy, AnswersDecl, first_place}
use Rattle.vd_cgrammar.specs.Words.{lexemes_in}
use Rattle.vd_cparse.proofs.Fitting.{fit_front}
use Rattle.vd_cgrammar.specs.Laws.{laws}

-- ---- what the reader is given

pub cut_fit : (ts front : List Lexeme) (b : Bool) (end at : ℕ) (why : Cause) → IsCut ts b end front why at → all_fit ts ≡ true → all_fit front ≡ true
cut_fit ts front b end at why (whole_text s) h = h
cut_fit ts front b end at why (at_unknown s) h = h
cut_fit ts front b end at why (at_deep next rest c s d p) h = fit_front front (next ∷ rest) (ap all_fit (sym c) ∙ h)

pub is_content : (alphabet : Alphabet) (own : List ℕ) (behind : ℕ) (body : List ℕ) (tokens front : List Lexeme) (end : End) (why : Cause) (at : ℕ) → HasTokens alphabet own behind body tokens end
    → IsCut tokens (is_text end) (place_of_end end) front why at → IsContent alphabet own behind body front why at
is_content alphabet own behind body tokens front end why at h c = record { tokens = tokens; end = end; has = h; is_cut = c }

pub is_front : (alphabet : Alphabet) (kind text own : List ℕ) (behind : ℕ) (body : List ℕ) (front : List Lexeme) (why : Cause) (at : ℕ) → found own behind body ≡ header_of kind text
    → IsContent alphabet own behind body front why at → IsFront alphabet kind text front why at
is_front alphabet kind text own behind body front why at h c = record { own = own; behind = behind; body = body; cut = sym h; content = c }

pub is_header_fault : (alphabet : Alphabet) (kind text : List ℕ) (front : ℕ) (rest : List ℕ) (at : ℕ) → missing front rest ≡ header_of kind text → IsFirstPlace alphabet front rest at → IsHeaderFault alphabet kind text at
is_header_fault alphabet kind text front rest at h p = record { front = front; rest = rest; tokens = p.tokens; end = p.end; cut = sym h; tokenized = p.tokenized; place_is = p.place_is }

-- ---- the answer

module _ (S : Sort) (alphabet : Alphabet) (kind text : List ℕ) where
  read_is_answer : (front : List Lexeme) (why : Cause) (at : ℕ) (r : Result (Value S) ParseFault) → IsFront alphabet kind text front why at
      → ((ts : List Lexeme) (b : Bool) (end : ℕ) → IsCut ts b end front why at → Answers S ts b end r) → IsRead S alphabet kind text r
  read_is_answer front why at r f h = record {
    own = f.own;
    behind = f.behind;
    body = f.body;
    tokens = f.content.tokens;
    end = f.content.end;
    cut = f.cut;
    has = f.content.has;
    answers = h f.content.tokens (is_text f.content.end) (place_of_end f.content.end) f.content.is_cut;
  }

  pub front_answer : (front : List Lexeme) (why : Cause) (at : ℕ) (r : Result (Value S) ParseFault) → IsFront alphabet kind text front why at
      → ((ts : List Lexeme) (b : Bool) (end : ℕ) → IsCut ts b end front why at → Answers S ts b end r) → AnswersText S alphabet kind text r
  front_answer front why at (Ok x) f h = read_is_answer front why at (Ok x) f h
  front_answer front why at (Err (fault.Bad p)) f h = inr (read_is_answer front why at (Err (fault.Bad p)) f h)
  front_answer front why at (Err (fault.Deep p)) f h = read_is_answer front why at (Err (fault.Deep p)) f h
  front_answer front why at (Err fault.Memory) f h = tt

  pub fault_answer : (why : ParseFault) → HasFront alphabet kind text (Err why) → AnswersText S alphabet kind text (Err why)
  fault_answer (fault.Bad at) x = inl x
  fault_answer (fault.Deep at) x = absurd x
  fault_answer fault.Memory x = tt

  -- ---- there is one

  same_lexes : (own : List ℕ) (at : ℕ) (bytes : List ℕ) (ts us : List Lexeme) (end other : End) → Lexes alphabet own at bytes ts end → Lexes alphabet own at bytes us other → (ts ≡ us) × (end ≡ other)
  same_lexes own at bytes ts us end other x y =
      let s = one_tokenization alphabet x.tokenized y.tokenized in
      (x.lexemes ∙ (ap (lexemes_in own) s.tokens ∙ sym y.lexemes), s.ends)

  same_continued : (own : List ℕ) (at : ℕ) (behind : List ℕ) (middle : End) (front ts us : List Lexeme) (end other : End) → Continues alphabet own at behind middle front ts end → Continues alphabet own at behind middle front us other
      → (ts ≡ us) × (end ≡ other)
  same_continued own at behind (last.Unknown p) front ts us end other x y = (x.0 ∙ sym y.0, x.1 ∙ sym y.1)
  same_continued own at behind (last.Text p) front ts us end other x y =
      let s = same_lexes own (at + 4) behind x.back y.back end other x.follows y.follows in
      (x.joined ∙ (ap (λ back. front ++ end_line at ∷ back) s.0 ∙ sym y.joined), s.1)

  same_by : (o : Option ℕ) (own : List ℕ) (at : ℕ) (body : List ℕ) (ts us : List Lexeme) (end other : End) → HasTokensBy o alphabet own at body ts end → HasTokensBy o alphabet own at body us other → (ts ≡ us) × (end ≡ other)
  same_by None own at body ts us end other x y = same_lexes own at body ts us end other x y
  same_by (Some n) own at body ts us end other x y =
      let s = same_lexes own at (take n body) x.front y.front x.middle y.middle x.content y.content in
      let z : Continues alphabet own (at + n) (drop (n + 4) body) y.middle y.front ts end =
      subst (λ m. Continues alphabet own (at + n) (drop (n + 4) body) m y.front ts end) s.1 (subst (λ f. Continues alphabet own (at + n) (drop (n + 4) body) x.middle f ts end) s.0 x.behind) in
      same_continued own (at + n) (drop (n + 4) body) y.middle y.front ts us end other z y.behind

  same_found : (own other : List ℕ) (n m : ℕ) (body bytes : List ℕ) → found own n body ≡ found other m bytes → (own ≡ other) × (n ≡ m) × (body ≡ bytes)
  same_found own other n m body bytes h = (cc, cc, cc)

  same_missing : (n m : ℕ) (rest bytes : List ℕ) → missing n rest ≡ missing m bytes → (n ≡ m) × (rest ≡ bytes)
  same_missing n m rest bytes h = (cc, cc)

  not_both : (own : List ℕ) (n m : ℕ) (body rest : List ℕ) → found own n body ≡ missing m rest → ⊥
  not_both own n m body rest h = cc

  module _ (may_end : laws.tables.follows S k.End ≡ true) where
    one_read : (a b : Result (Value S) ParseFault) → IsRead S alphabet kind text a → IsRead S alphabet kind text b → a ≢ Err fault.Memory → b ≢ Err fault.Memory → a ≡ b
    one_read a b x y n m =
        let h = same_found x.own y.own x.behind y.behind x.body y.body (sym x.cut ∙ y.cut) in
        let x1 = subst (λ o. HasTokens alphabet o x.behind x.body x.tokens x.end) h.0 x.has in
        let x2 = subst (λ p. HasTokens alphabet y.own p x.body x.tokens x.end) h.1 x1 in
        let x3 : HasTokens alphabet y.own y.behind y.body x.tokens x.end = subst (λ q. HasTokens alphabet y.own y.behind q x.tokens x.end) h.2 x2 in
        let s = same_by (end_at true y.body) y.own y.behind y.body x.tokens y.tokens x.end y.end x3 y.has in
        let a1 = subst (λ ts. Answers S ts (is_text x.end) (place_of_end x.end) a) s.0 x.answers in
        let a2 : Answers S y.tokens (is_text y.end) (place_of_end y.end) a = subst (λ l. Answers S y.tokens (is_text l) (place_of_end l) a) s.1 a1 in
        one_answer grammar nesting place laws S may_end y.tokens (is_text y.end) (place_of_end y.end) a b a2 y.answers n m

    one_header : (at other : ℕ) → IsHeaderFault alphabet kind text at → IsHeaderFault alphabet kind text other → at ≡ other
    one_header at other x y =
        let h = same_missing x.front y.front x.rest y.rest (sym x.cut ∙ y.cut) in
        let x1 = subst (λ p. Tokenizes alphabet p x.rest x.tokens x.end) h.0 x.tokenized in
        let x2 : Tokenizes alphabet y.front y.rest x.tokens x.end = subst (λ r. Tokenizes alphabet y.front r x.tokens x.end) h.1 x1 in
        let s = one_tokenization alphabet x2 y.tokenized in
        x.place_is ∙ (ap (λ ts. first_place ts x.end) s.tokens ∙ (ap (first_place y.tokens) s.ends ∙ sym y.place_is))

    header_not_read : (at : ℕ) (r : Result (Value S) ParseFault) → IsHeaderFault alphabet kind text at → IsRead S alphabet kind text r → ⊥
    header_not_read at r x y = not_both y.own y.behind x.front y.body x.rest (sym y.cut ∙ x.cut)

    -- an answer but for memory
    data Known (r : Result (Value S) ParseFault) : Type 0 where
      of_tokens : IsRead S alphabet kind text r → Known r
      of_header : (at : ℕ) → r ≡ Err (fault.Bad at) → IsHeaderFault alphabet kind text at → Known r

    known : (r : Result (Value S) ParseFault) → AnswersText S alphabet kind text r → r ≢ Err fault.Memory → Known r
    known (Ok v) x n = of_tokens x
    known (Err (fault.Bad at)) (inl x) n = of_header at refl x
    known (Err (fault.Bad at)) (inr x) n = of_tokens x
    known (Err (fault.Deep at)) x n = of_tokens x
    known (Err fault.Memory) x n = absurd (n refl)

    one_known : (a b : Result (Value S) ParseFault) → Known a → Known b → a ≢ Err fault.Memory → b ≢ Err fault.Memory → a ≡ b
    one_known a b (of_tokens x) (of_tokens y) n m = one_read a b x y n m
    one_known a b (of_tokens x) (of_header at e y) n m = absurd (header_not_read at a y x)
    one_known a b (of_header at e x) (of_tokens y) n m = absurd (header_not_read at b x y)
    one_known a b (of_header at e x) (of_header other g y) n m = e ∙ (ap (λ p. Err (fault.Bad p)) (one_header at other x y) ∙ sym g)

    -- A text has one answer.
    pub exact : (a b : Result (Value S) ParseFault) → AnswersText S alphabet kind text a → AnswersText S alphabet kind text b → a ≢ Err fault.Memory → b ≢ Err fault.Memory → a ≡ b
    exact a b x y n m = one_known a b (known a x n) (known b y m) n m

-- ---- declarations

pub decl_exact : (text : List ℕ) (a b : Result Decl ParseFault) → AnswersDecl text a → AnswersDecl text b → a ≢ Err fault.Memory → b ≢ Err fault.Memory → a ≡ b
decl_exact text a b x y n m = by_word (bytes_eq (word_of text) (codes "global")) x y
  where
    by_word : (w : Bool) → AnswersDeclBy w text a → AnswersDeclBy w text b → a ≡ b
    by_word true x' y' = exact GlobalSection Declaration (codes "global") text refl a b x' y' n m
    by_word false x' y' = exact StructSection Declaration (codes "struct") text refl a b x' y' n m
