-- A text has one answer.
use Rattle.std.specs.Prelude.{ℕ, ◌+◌, ◌≡◌, ◌≢◌, List, ◌∷◌, ◌++◌, take, drop, Option, Some, None, Result, Ok, Err, refl}
use Rattle.std.proofs.Common.{inl, inr, true, sym, ◌∙◌, ap, subst}
use Rattle.vd_grammar.specs.declared.fault.ParseFault.{ParseFault}
use Rattle.vd_grammar.specs.declared.fault.ParseFault.TheVariants as fault
use Rattle.vd_grammar.specs.Grammar.{Grammar}
use Rattle.vd_grammar.specs.Nesting.{Nesting}
use Rattle.vd_grammar.specs.Section.{Answers}
use Rattle.vd_grammar.specs.SectionLaws.{one_answer}
use Rattle.vd_grammar.specs.Tables.{Laws}
use Rattle.vd_tokens.specs.declared.alphabet.Alphabet.{Alphabet}
use Rattle.vd_tokens.specs.declared.token.End.{End}
use Rattle.vd_tokens.specs.declared.token.End.TheVariants as last
use Rattle.vd_tokens.specs.Lexeme.{Lexeme as Token}
use Rattle.vd_tokens.specs.Text.{Tokenizes}
use Rattle.vd_tokens.specs.OneText.{one_tokenization}
use Rattle.vd_section.specs.Answer.{made_of, IsHeaderFault, IsRead, AnswersText}
use Rattle.vd_section.specs.Content.{Lexes, Continues, HasTokensBy, HasTokens}
use Rattle.vd_section.specs.EndLine.{end_at}
use Rattle.vd_section.specs.HeaderLine.{HeaderCut, found, missing}
use Rattle.vd_section.specs.Place.{is_text, place_of_end, place_of_first, IsFirstPlace}

-- ---- tokens

module _ {Lexeme : Type 0} (alphabet : Alphabet) (lexemes : List Token → List Lexeme) (end_line : ℕ → Lexeme) where
  same_lexes : (at : ℕ) (bytes : List ℕ) (ts us : List Lexeme) (end other : End) → Lexes alphabet lexemes end_line at bytes ts end → Lexes alphabet lexemes end_line at bytes us other → (ts ≡ us) × (end ≡ other)
  same_lexes at bytes ts us end other x y =
      let s = one_tokenization alphabet x.tokenized y.tokenized in
      (x.are ∙ (ap lexemes s.tokens ∙ sym y.are), s.ends)

  same_continued : (at : ℕ) (behind : List ℕ) (middle : End) (front ts us : List Lexeme) (end other : End) → Continues alphabet lexemes end_line at behind middle front ts end
      → Continues alphabet lexemes end_line at behind middle front us other → (ts ≡ us) × (end ≡ other)
  same_continued at behind (last.Unknown p) front ts us end other x y = (x.0 ∙ sym y.0, x.1 ∙ sym y.1)
  same_continued at behind (last.Text p) front ts us end other x y =
      let s = same_lexes (at + 4) behind x.back y.back end other x.follows y.follows in
      (x.joined ∙ (ap (λ back. front ++ end_line at ∷ back) s.0 ∙ sym y.joined), s.1)

  same_by : (o : Option ℕ) (at : ℕ) (body : List ℕ) (ts us : List Lexeme) (end other : End) → HasTokensBy alphabet lexemes end_line o at body ts end → HasTokensBy alphabet lexemes end_line o at body us other
      → (ts ≡ us) × (end ≡ other)
  same_by None at body ts us end other x y = same_lexes at body ts us end other x y
  same_by (Some n) at body ts us end other x y =
      let s = same_lexes at (take n body) x.front y.front x.middle y.middle x.content y.content in
      let z : Continues alphabet lexemes end_line (at + n) (drop (n + 4) body) y.middle y.front ts end =
      subst (λ m. Continues alphabet lexemes end_line (at + n) (drop (n + 4) body) m y.front ts end) s.1 (subst (λ f. Continues alphabet lexemes end_line (at + n) (drop (n + 4) body) x.middle f ts end) s.0 x.behind) in
      same_continued (at + n) (drop (n + 4) body) y.middle y.front ts us end other z y.behind

  -- What stands behind a header line has its tokens alone.
  pub same_tokens : (at : ℕ) (body : List ℕ) (ts us : List Lexeme) (end other : End) → HasTokens alphabet lexemes end_line at body ts end → HasTokens alphabet lexemes end_line at body us other
      → (ts ≡ us) × (end ≡ other)
  same_tokens at body ts us end other x y = same_by (end_at true body) at body ts us end other x y

-- ---- header lines

same_found : (own other : List ℕ) (n m : ℕ) (body bytes : List ℕ) → found own n body ≡ found other m bytes → (own ≡ other) × (n ≡ m) × (body ≡ bytes)
same_found own other n m body bytes h = (cc, cc, cc)

same_missing : (n m : ℕ) (rest bytes : List ℕ) → missing n rest ≡ missing m bytes → (n ≡ m) × (rest ≡ bytes)
same_missing n m rest bytes h = (cc, cc)

not_both : (own : List ℕ) (n m : ℕ) (body rest : List ℕ) → found own n body ≡ missing m rest → ⊥
not_both own n m body rest h = cc

one_header : (alphabet : Alphabet) (header : HeaderCut) (at other : ℕ) → IsHeaderFault alphabet header at → IsHeaderFault alphabet header other → at ≡ other
one_header alphabet header at other x y =
    let h = same_missing x.front y.front x.rest y.rest (sym x.cut ∙ y.cut) in
    let x1 = subst (λ p. Tokenizes alphabet p x.rest x.first.tokens x.first.end) h.0 x.first.tokenized in
    let x2 : Tokenizes alphabet y.front y.rest x.first.tokens x.first.end = subst (λ r. Tokenizes alphabet y.front r x.first.tokens x.first.end) h.1 x1 in
    let s = one_tokenization alphabet x2 y.first.tokenized in
    x.first.place_is ∙ (ap (λ ts. place_of_first ts x.first.end) s.tokens ∙ (ap (place_of_first y.first.tokens) s.ends ∙ sym y.first.place_is))

-- ---- answers

made_memory : {A B : Type 0} (f : A → B) (r : Result A ParseFault) → r ≡ Err fault.Memory → made_of f r ≡ Err fault.Memory
made_memory f (Ok x) h = cc
made_memory f (Err why) h = let e : why ≡ fault.Memory = cc in ap Err e

module _ (G : Grammar) (N : Nesting G) (L : Laws G) (place : G.Token → ℕ) (alphabet : Alphabet) (lexemes : List ℕ → List Token → List G.Token) (end_line : ℕ → G.Token) where
  module _ (S : G.Sort) (may_end : L.tables.follows S G.end ≡ true) (A : Type 0) (made : List ℕ → G.Value S → A) (header : HeaderCut) where
    not_memory : (own : List ℕ) (r : Result (G.Value S) ParseFault) (a : Result A ParseFault) → a ≡ made_of (made own) r → a ≢ Err fault.Memory → r ≢ Err fault.Memory
    not_memory own r a e n = λ h. n (e ∙ made_memory (made own) r h)

    one_read : (a b : Result A ParseFault) → IsRead G N place alphabet lexemes end_line S A made header a → IsRead G N place alphabet lexemes end_line S A made header b
        → a ≢ Err fault.Memory → b ≢ Err fault.Memory → a ≡ b
    one_read a b x y n m =
        let h = same_found x.own y.own x.behind y.behind x.body y.body (sym x.cut ∙ y.cut) in
        let x1 = subst (λ o. HasTokens alphabet (lexemes o) end_line x.behind x.body x.tokens x.end) h.0 x.has in
        let x2 = subst (λ p. HasTokens alphabet (lexemes y.own) end_line p x.body x.tokens x.end) h.1 x1 in
        let x3 : HasTokens alphabet (lexemes y.own) end_line y.behind y.body x.tokens x.end = subst (λ q. HasTokens alphabet (lexemes y.own) end_line y.behind q x.tokens x.end) h.2 x2 in
        let s = same_tokens alphabet (lexemes y.own) end_line y.behind y.body x.tokens y.tokens x.end y.end x3 y.has in
        let a1 = subst (λ ts. Answers G N place S ts (is_text x.end) (place_of_end x.end) x.read) s.0 x.answers in
        let a2 : Answers G N place S y.tokens (is_text y.end) (place_of_end y.end) x.read = subst (λ l. Answers G N place S y.tokens (is_text l) (place_of_end l) x.read) s.1 a1 in
        let e = one_answer G N place L S may_end y.tokens (is_text y.end) (place_of_end y.end) x.read y.read a2 y.answers (not_memory x.own x.read a x.answer_is n) (not_memory y.own y.read b y.answer_is m) in
        x.answer_is ∙ (ap (λ r. made_of (made x.own) r) e ∙ (ap (λ o. made_of (made o) y.read) h.0 ∙ sym y.answer_is))

    header_not_read : (at : ℕ) (r : Result A ParseFault) → IsHeaderFault alphabet header at → IsRead G N place alphabet lexemes end_line S A made header r → ⊥
    header_not_read at r x y = not_both y.own y.behind x.front y.body x.rest (sym y.cut ∙ x.cut)

    -- an answer but for memory
    data Known (r : Result A ParseFault) : Type 0 where
      of_tokens : IsRead G N place alphabet lexemes end_line S A made header r → Known r
      of_header : (at : ℕ) → r ≡ Err (fault.Bad at) → IsHeaderFault alphabet header at → Known r

    known : (r : Result A ParseFault) → AnswersText G N place alphabet lexemes end_line S A made header r → r ≢ Err fault.Memory → Known r
    known (Ok v) x n = of_tokens x
    known (Err (fault.Bad at)) (inl x) n = of_header at refl x
    known (Err (fault.Bad at)) (inr x) n = of_tokens x
    known (Err (fault.Deep at)) x n = of_tokens x
    known (Err fault.Memory) x n = absurd (n refl)

    one_known : (a b : Result A ParseFault) → Known a → Known b → a ≢ Err fault.Memory → b ≢ Err fault.Memory → a ≡ b
    one_known a b (of_tokens x) (of_tokens y) n m = one_read a b x y n m
    one_known a b (of_tokens x) (of_header at e y) n m = absurd (header_not_read at a y x)
    one_known a b (of_header at e x) (of_tokens y) n m = absurd (header_not_read at b x y)
    one_known a b (of_header at e x) (of_header other g y) n m = e ∙ (ap (λ p. Err (fault.Bad p)) (one_header alphabet header at other x y) ∙ sym g)

    -- A text has one answer.
    pub exact : (a b : Result A ParseFault) → AnswersText G N place alphabet lexemes end_line S A made header a → AnswersText G N place alphabet lexemes end_line S A made header b
        → a ≢ Err fault.Memory → b ≢ Err fault.Memory → a ≡ b
    exact a b x y n m = one_known a b (known a x n) (known b y m) n m
