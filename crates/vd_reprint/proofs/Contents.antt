-- The tokens of a section that is read: those of a function, and the line `end`.
use Rattle.std.proofs.Common.{ℕ, ◌+◌, ◌≡◌, ◌<◌, true, List, [], ◌∷◌, ◌++◌, take, drop, Option, Some, None, refl, sym, ◌∙◌, ap, subst}
use Rattle.vd_clight.specs.declared.syntax.FnText.{FnText}
use Rattle.vd_grammar.specs.Grammar.{Is}
use Rattle.vd_grammar.specs.Nesting.{state_from}
use Rattle.vd_tokens.specs.declared.alphabet.Alphabet.TheVariants.{C}
use Rattle.vd_tokens.specs.declared.token.End.{End}
use Rattle.vd_tokens.specs.declared.token.End.TheVariants as last
use Rattle.vd_cgrammar.specs.declared.depth.Depth.{Depth}
use Rattle.vd_cgrammar.specs.declared.kind.Kind.TheVariants as k
use Rattle.vd_cgrammar.specs.Grammar.{Sort, Value, Rule, grammar, FnSection, Function}
use Rattle.vd_cparse.specs.HeaderLine.{end_at}
use Rattle.vd_cgrammar.specs.Kinds.{same}
use Rattle.vd_cgrammar.specs.Lexeme.{Lexeme}
use Rattle.vd_cgrammar.specs.Nesting.{nesting, after, start}
use Rattle.vd_cgrammar.specs.Precedence.{Vocabulary}
use Rattle.vd_cparse.specs.Section.{Lexes, Continues, HasTokensBy, end_line, IsFnSection}
use Rattle.vd_cgrammar.specs.Shallow.{nested, Shallow}
use Rattle.vd_cgrammar.specs.Standing.{AreTokens, none, next, AreRead}
use Rattle.vd_cgrammar.specs.Vocabularies.{lexeme_at, HasVocabulary}
use Rattle.vd_cgrammar.proofs.Again.{first_read, both_read}
use Rattle.vd_cgrammar.proofs.SectionWords.{have_vocabularies}
use Rattle.vd_cgrammar.proofs.Starts.{Step, shown_of}
use Rattle.vd_reprint.proofs.OwnNames.{NoEnd, lexemes_no_end}

-- ---- a section's tokens, and a function's name

-- the tokens are a function, and the line `end`
record Ended (ts : List Lexeme) (f : FnText) : Type 0 where
  front : List Lexeme
  end : Lexeme
  cut : ts ≡ front ++ end ∷ []
  is : Is grammar Function front f
  is_end : same k.EndLine end.kind ≡ true

module _ (V : Vocabulary) where
  Shown : (S : Sort) → List Lexeme → Value S → Type 0
  Shown FnSection ts f = Ended ts f
  Shown Function ts f = AreRead V ts → same k.Own (V.kind_at f.name) ≡ true
  Shown _ ts v = Unit {0}

  section_shown : Step Shown Rule.fn_section
  unfolding Shown
  section_shown ts (f, (t, _)) (xs, ys, cut, p, (us, cut2, h, e)) = record {
    front = xs;
    end = t;
    cut = cut ∙ ap (λ z. xs ++ z) (cut2 ∙ ap (λ z. t ∷ z) e);
    is = p.0;
    is_end = h;
  }

  function_shown : Step Shown Rule.function
  unfolding Shown
  function_shown ts (t, (f, _)) (xs, ys, cut, p, (us, cut2, n, m)) a =
      let i = (first_read V cut2 (both_read V cut a).1).0 in
      subst (λ q. same k.Own q ≡ true) i.kind_is n

  -- nothing is said of the other sorts
  abbrev is_other : Sort → Type 0
  is_other FnSection = ⊥
  is_other Function = ⊥
  is_other _ = Unit {0}

  other_shown : (S : Sort) → is_other S → (ts : List Lexeme) (v : Value S) → Shown S ts v
  unfolding Shown
  other_shown FnSection h ts v = absurd h
  other_shown Function h ts v = absurd h
  other_shown _ h ts v = tt

  shown_rule : (S : Sort) (r : Rule S) → Step Shown r
  shown_rule _ Rule.fn_section ts vs m = section_shown ts vs m
  shown_rule _ Rule.function ts vs m = function_shown ts vs m
  shown_rule _ _ ts vs m = other_shown _ tt ts _

  ended_of : {ts : List Lexeme} {f : FnText} → Is grammar FnSection ts f → Ended ts f
  unfolding Shown
  ended_of p = shown_of Shown shown_rule p

  name_of : {ts : List Lexeme} {f : FnText} → Is grammar Function ts f → AreRead V ts → same k.Own (V.kind_at f.name) ≡ true
  unfolding Shown
  name_of p a = shown_of Shown shown_rule p a

-- ---- where the line `end` stands

no_end_last : (xs : List Lexeme) (t : Lexeme) → NoEnd (xs ++ t ∷ []) → same k.EndLine t.kind ≡ true → ⊥
unfolding NoEnd
no_end_last [] t n h = let g = n.0 in cc
no_end_last (x ∷ xs) t n h = no_end_last xs t n.1 h

-- the two cuts at the line `end` are one
fronts_same : (xs ys zs : List Lexeme) (t u : Lexeme) → NoEnd zs → same k.EndLine t.kind ≡ true → xs ++ t ∷ [] ≡ ys ++ u ∷ zs → xs ≡ ys
unfolding NoEnd
fronts_same [] [] zs t u n h e = refl
fronts_same [] (y ∷ []) zs t u n h e = cc
fronts_same [] (y ∷ z ∷ ys) zs t u n h e = cc
fronts_same (x ∷ xs) [] zs t u n h e =
    let tails : zs ≡ xs ++ t ∷ [] = cc in
    absurd (no_end_last xs t (subst NoEnd tails n) h)
fronts_same (x ∷ xs) (y ∷ ys) zs t u n h e =
    let heads : x ≡ y = cc in
    let tails : xs ++ t ∷ [] ≡ ys ++ u ∷ zs = cc in
    ap (λ z. z ∷ xs) heads ∙ ap (λ z. y ∷ z) (fronts_same xs ys zs t u n h tails)

module _ (own : List ℕ) where
  abbrev W : HasVocabulary own
  W = have_vocabularies own

  lexed_read : (place : ℕ) (bytes : List ℕ) (ts : List Lexeme) (end : End) → Lexes C own place bytes ts end → AreRead W.vocabulary ts
  lexed_read place bytes ts end x = subst (AreRead W.vocabulary) (sym x.lexemes) (W.read place bytes x.tokens end x.tokenized)

  lexed_no_end : (place : ℕ) (bytes : List ℕ) (ts : List Lexeme) (end : End) → Lexes C own place bytes ts end → NoEnd ts
  lexed_no_end place bytes ts end x = subst NoEnd (sym x.lexemes) (lexemes_no_end own x.tokens)

  not_lexed : (xs ts : List Lexeme) (t : Lexeme) → NoEnd ts → ts ≡ xs ++ t ∷ [] → same k.EndLine t.kind ≡ true → ⊥
  not_lexed xs ts t n e h = no_end_last xs t (subst NoEnd e n) h

  front_read : (o : Option ℕ) (place : ℕ) (body : List ℕ) (ts xs : List Lexeme) (t : Lexeme) (end : End) → HasTokensBy o C own place body ts end → ts ≡ xs ++ t ∷ [] → same k.EndLine t.kind ≡ true
      → AreRead W.vocabulary xs
  front_read None place body ts xs t end x e h = absurd (not_lexed xs ts t (lexed_no_end place body ts end x) e h)
  front_read (Some n) place body ts xs t end x e h = by_middle x.middle x.content x.behind
    where
      by_middle : (middle : End) → Lexes C own place (take n body) x.front middle → Continues C own (place + n) (drop (n + 4) body) middle x.front ts end → AreRead W.vocabulary xs
      by_middle (last.Unknown at) l z = absurd (not_lexed xs ts t (subst NoEnd (sym z.0) (lexed_no_end place (take n body) x.front (last.Unknown at) l)) e h)
      by_middle (last.Text at) l z =
          let same_front : xs ≡ x.front =
          fronts_same xs x.front z.back t (end_line (place + n)) (lexed_no_end (place + n + 4) (drop (n + 4) body) z.back end z.follows) h (sym e ∙ z.joined) in
          subst (AreRead W.vocabulary) (sym same_front) (lexed_read place (take n body) x.front (last.Text at) l)

-- ---- nesting

-- every token is nested less deeply than the limit, from a state on
unfoldable pub TokensShallow : Depth → List Lexeme → Type 0
TokensShallow d [] = Unit {0}
TokensShallow d (t ∷ ts) = (nested (after t.kind d) < 256) × TokensShallow (after t.kind d) ts

pub tokens_shallow : (d : Depth) (ts : List Lexeme) → ((front rest : List Lexeme) → ts ≡ front ++ rest → nested (state_from grammar nesting d front) < 256) → TokensShallow d ts
unfolding TokensShallow
tokens_shallow d [] h = tt
tokens_shallow d (t ∷ ts) h = (h (t ∷ []) ts refl, tokens_shallow (after t.kind d) ts (λ front rest e. h (t ∷ front) rest (ap (λ z. t ∷ z) e)))

pub fronts_shallow : (d : Depth) (ts : List Lexeme) → nested d < 256 → TokensShallow d ts → (front rest : List Lexeme) → ts ≡ front ++ rest → nested (state_from grammar nesting d front) < 256
unfolding TokensShallow
fronts_shallow d ts n s [] rest e = n
fronts_shallow d [] n s (x ∷ front) rest e = cc
fronts_shallow d (t ∷ ts) n s (x ∷ front) rest e =
    let heads : t ≡ x = cc in
    let tails : ts ≡ front ++ rest = cc in
    subst (λ z. nested (state_from grammar nesting (after z.kind d) front) < 256) heads (fronts_shallow (after t.kind d) ts s.0 s.1 front rest tails)

pub front_shallow : (d : Depth) (xs ys : List Lexeme) → TokensShallow d (xs ++ ys) → TokensShallow d xs
unfolding TokensShallow
front_shallow d [] ys s = tt
front_shallow d (x ∷ xs) ys s = (s.0, front_shallow (after x.kind d) xs ys s.1)

module _ (V : Vocabulary) where
  pub words_shallow : (d : Depth) {ts : List Lexeme} {ws : List (List ℕ)} → AreTokens V ts ws → TokensShallow d ts → Shallow V 256 d ws
  unfolding TokensShallow
  words_shallow d none s = tt
  words_shallow d (next {ts = ts} {w = w} i a) s =
      (subst (λ q. nested (after q d) < 256) i.kind_is s.0, words_shallow (after (V.kind_at w) d) a (subst (λ q. TokensShallow (after q d) ts) i.kind_is s.1))

  pub shallow_words : (d : Depth) {ts : List Lexeme} {ws : List (List ℕ)} → AreTokens V ts ws → Shallow V 256 d ws → TokensShallow d ts
  unfolding TokensShallow
  shallow_words d none s = tt
  shallow_words d (next {t = t} {ts = ts} {w = w} i a) s =
      let rest = shallow_words (after (V.kind_at w) d) a s.1 in
      (subst (λ q. nested (after q d) < 256) (sym i.kind_is) s.0, subst (λ q. TokensShallow (after q d) ts) (sym i.kind_is) rest)

-- ---- the section

-- What a section that is read has: its name, and tokens of the function that are nested within the limit.
pub record Content (f : FnText) : Type 0 where
  pub own : List ℕ
  pub tokens : List Lexeme
  pub is : Is grammar Function tokens f
  pub read : AreRead (have_vocabularies own).vocabulary tokens
  pub shallow : TokensShallow start tokens
  pub name_is : same k.Own (lexeme_at own f.name).kind ≡ true

pub content_of : (text : List ℕ) (f : FnText) → IsFnSection text f → Content f
content_of text f x =
    let V = (have_vocabularies x.own).vocabulary in
    let s = ended_of V x.answers.is in
    let a = front_read x.own (end_at true x.body) x.behind x.body x.tokens s.front s.end x.end x.has s.cut s.is_end in
    let whole = tokens_shallow start x.tokens x.answers.shallow.below in
    record {
      own = x.own;
      tokens = s.front;
      is = s.is;
      read = a;
      shallow = front_shallow start s.front (s.end ∷ []) (subst (TokensShallow start) s.cut whole);
      name_is = subst (λ q. same k.Own q ≡ true) ((have_vocabularies x.own).is.kinds f.name) (name_of V s.is a);
    }
