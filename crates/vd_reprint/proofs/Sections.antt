-- The section that is printed of a function reads as it, places apart.
use Rattle.std.proofs.Common.{ℕ, ◌+◌, ◌≡◌, ◌<◌, Bool, true, false, List, [], ◌∷◌, ◌++◌, length, codes, Some, refl, sym, ◌∙◌, ap, subst, arith, append_assoc, length-append}
use Rattle.std.specs.List.{join_with_byte}
use Rattle.std.proofs.Math.Seq.{take-append_seam, drop-append-add}
use Rattle.vd_clight.specs.declared.syntax.FnText.{FnText}
use Rattle.vd_clight.specs.Printed.{Words, function_words, printed}
use Rattle.vd_grammar.specs.Grammar.{Is}
use Rattle.vd_tokens.specs.declared.alphabet.Alphabet.TheVariants.{C}
use Rattle.vd_tokens.specs.declared.token.End.TheVariants as last
use Rattle.vd_tokens.specs.Bytes.{is_no_line_feed, AllBytes}
use Rattle.vd_tokens.specs.Text.{Tokenizes, ends}
use Rattle.vd_cgrammar.specs.declared.depth.Depth.{Depth}
use Rattle.vd_cgrammar.specs.declared.kind.Kind.TheVariants as k
use Rattle.vd_cgrammar.specs.Grammar.{Rule, grammar, FnSection}
use Rattle.vd_cparse.specs.HeaderLine.{header_of, end_at}
use Rattle.vd_cgrammar.specs.Lexeme.{Lexeme}
use Rattle.vd_cgrammar.specs.Nesting.{after, start}
use Rattle.vd_cgrammar.specs.PrintLaw.{SpacedWord, spaced_text, spaced_tokens}
use Rattle.vd_cgrammar.specs.Precedence.{Vocabulary}
use Rattle.vd_cparse.specs.Section.{HasTokensBy, HasTokens, IsClosed, end_line}
use Rattle.vd_cgrammar.specs.Shallow.{nested, Shallow}
use Rattle.vd_cgrammar.specs.Standing.{AreTokens, FunctionReadsAs}
use Rattle.vd_cgrammar.specs.Words.{lexemes_in}
use Rattle.vd_cgrammar.proofs.FunctionsBack.{functions_read_back}
use Rattle.vd_cgrammar.proofs.SectionWords.{have_vocabularies}
use Rattle.vd_cgrammar.proofs.Spacing.{spaced_are_tokens}
use Rattle.vd_cgrammar.proofs.Starts.{put_together}
use Rattle.vd_reprint.specs.Nested.{FunctionsAreShallow}
use Rattle.vd_reprint.specs.SectionText.{SectionsReadBack}
use Rattle.vd_reprint.proofs.Contents.{TokensShallow, fronts_shallow, words_shallow, shallow_words, Content, content_of}
use Rattle.vd_reprint.proofs.FunctionsFollow.{function_follows, function_begins}
use Rattle.vd_reprint.proofs.HeaderLines.{header_is, end_is}
use Rattle.vd_reprint.proofs.KnownKinds.{all_known, tokens_at, tokens_stand, all_taken}
use Rattle.vd_reprint.proofs.OwnNames.{own_is}
use Rattle.vd_reprint.proofs.SpacedLines.{AllWords, taken_are_words, spaced_words, words_are, line_is, line_is_plain, Begins}

pub functions_are_shallow : FunctionsAreShallow
functions_are_shallow V f ts most d p a s =
    (function_follows V f ts p a).shallow most d d (record { below = record { fewer_brackets = omega arith; fewer_operators = omega arith }; same_last = refl }) s

-- ---- the line `end`, as a token

end_counts : (d : Depth) → nested (after k.EndLine d) ≡ nested d
end_counts d = by_flag d.brackets d.operators d.is_opened
  where
    by_flag : (b o : ℕ) (f : Bool) → nested (after k.EndLine (record { brackets = b; operators = o; is_opened = f })) ≡ b + o
    by_flag b o true = refl
    by_flag b o false = refl

end_shallow : (d : Depth) (ts : List Lexeme) (place : ℕ) → nested d < 256 → TokensShallow d ts → TokensShallow d (ts ++ end_line place ∷ [])
unfolding TokensShallow
end_shallow d [] place h s = (subst (λ n. n < 256) (sym (end_counts d)) h, tt)
end_shallow d (t ∷ ts) place h s = (s.0, end_shallow (after t.kind d) ts place s.0 s.1)

-- ---- the printed line

-- What is printed of a function that is read: tokens of a line, which are the function again.
record Line (own : List ℕ) (f : FnText) : Type 0 where
  words : AllWords (function_words f)
  back : (us : List Lexeme) → AreTokens (have_vocabularies own).vocabulary us (function_words f) → FunctionReadsAs f us
  shallow : Shallow (have_vocabularies own).vocabulary 256 start (function_words f)
  begins : Begins (function_words f)

line_of : (f : FnText) (x : Content f) → Line x.own f
line_of f x =
    let V = (have_vocabularies x.own).vocabulary in
    let back = λ (us : List Lexeme) (b : AreTokens V us (function_words f)). functions_read_back V f x.tokens us x.is x.read b in
    record {
      words = taken_are_words x.own (function_words f) (all_taken V (function_words f) (all_known (back (tokens_at V (function_words f)) (tokens_stand V (function_words f))).is));
      back = back;
      shallow = functions_are_shallow V f x.tokens 256 start x.is x.read (words_shallow V start x.read x.shallow);
      begins = function_begins V f x.tokens x.is x.read;
    }

-- words begin with the first byte of the first
record JoinedBegins (b : ℕ) (ws : Words) : Type 0 where
  rest : List ℕ
  cut : join_with_byte 32 ws ≡ b ∷ rest

joined_begins : (b : ℕ) (bs : List ℕ) (ws : Words) → JoinedBegins b ((b ∷ bs) ∷ ws)
joined_begins b bs [] = record { rest = bs; cut = refl }
joined_begins b bs (w ∷ ws) = record { rest = bs ++ 32 ∷ join_with_byte 32 (w ∷ ws); cut = refl }

-- ---- the section

module _ (own : List ℕ) (f : FnText) (x : Line own f) (place : ℕ) where
  abbrev V : Vocabulary
  V = (have_vocabularies own).vocabulary

  abbrev spaced : List SpacedWord
  spaced = spaced_words (function_words f) x.words

  abbrev line : List ℕ
  line = spaced_text spaced

  abbrev tokens : List Lexeme
  tokens = lexemes_in own (spaced_tokens place spaced)

  tokens_are : AreTokens V tokens (function_words f)
  tokens_are = subst (AreTokens V tokens) (words_are (function_words f) x.words) ((have_vocabularies own).spaced place spaced)

  read_again : FunctionReadsAs f tokens
  read_again = x.back tokens tokens_are

  section_is : Is grammar FnSection (tokens ++ end_line (place + length line) ∷ []) read_again.value
  section_is = put_together Rule.fn_section (tokens ++ end_line (place + length line) ∷ []) (read_again.value, (end_line (place + length line), tt)) (tokens, end_line (place + length line) ∷ [], refl, read_again.is, ([], refl, refl, refl))

  line_text : line ≡ printed f ++ codes "\n"
  line_text = by_words (function_words f) x.words x.begins
    where
      by_words : (ws : Words) (a : AllWords ws) → Begins ws → spaced_text (spaced_words ws a) ≡ join_with_byte 32 ws ++ codes "\n"
      by_words [] a b = absurd (cc)
      by_words (w ∷ ws) a b = line_is w ws a

  body_is : printed f ++ codes "\nend\n" ≡ line ++ codes "end\n"
  body_is = sym (append_assoc (printed f) (codes "\n") (codes "end\n")) ∙ ap (λ z. z ++ codes "end\n") (sym line_text)

  end_found : end_at true (line ++ codes "end\n") ≡ Some (length line)
  end_found =
      let b = x.begins in
      let first = joined_begins b.byte b.bytes b.others in
      let p : printed f ≡ b.byte ∷ first.rest = ap (join_with_byte 32) b.cut ∙ first.cut in
      let plain = subst (AllBytes is_no_line_feed) p (line_is_plain (function_words f) x.words) in
      let found : end_at true (printed f ++ codes "\nend\n") ≡ Some (length (printed f) + 1) =
      subst (λ z. end_at true (z ++ codes "\nend\n") ≡ Some (length z + 1)) (sym p) (end_is b.byte first.rest b.is_no_e plain) in
      ap (end_at true) (sym body_is) ∙ (found ∙ ap Some (sym (ap length line_text ∙ length-append (printed f) (codes "\n"))))

  closed : IsClosed C own place (line ++ codes "end\n") (length line) (tokens ++ end_line (place + length line) ∷ []) (last.Text (place + length line + 4))
  closed = record {
    front = tokens;
    middle = last.Text (place + length line);
    content = record {
      tokens = spaced_tokens place spaced;
      tokenized = subst (λ z. Tokenizes C place z (spaced_tokens place spaced) (last.Text (place + length line))) (sym (take-append_seam line (codes "end\n"))) (spaced_are_tokens place spaced);
      lexemes = refl;
    };
    behind = record {
      back = [];
      follows = record {
        tokens = [];
        tokenized = subst (λ z. Tokenizes C (place + length line + 4) z [] (last.Text (place + length line + 4))) (sym (drop-append-add line (codes "end\n") 4)) ends;
        lexemes = refl;
      };
      joined = refl;
    };
  }

  has_tokens : HasTokens C own place (printed f ++ codes "\nend\n") (tokens ++ end_line (place + length line) ∷ []) (last.Text (place + length line + 4))
  has_tokens =
      subst (λ z. HasTokens C own place z (tokens ++ end_line (place + length line) ∷ []) (last.Text (place + length line + 4))) (sym body_is)
      (subst (λ o. HasTokensBy o C own place (line ++ codes "end\n") (tokens ++ end_line (place + length line) ∷ []) (last.Text (place + length line + 4))) (sym end_found) closed)

  shallow_again : TokensShallow start (tokens ++ end_line (place + length line) ∷ [])
  shallow_again = end_shallow start tokens (place + length line) (omega arith) (shallow_words V start tokens_are x.shallow)

pub sections_read_back : SectionsReadBack
sections_read_back text f r =
    let x = content_of text f r in
    let y = line_of f x in
    let own = own_is x.own f.name x.name_is in
    let body = printed f ++ codes "\nend\n" in
    let place = 3 + length x.own + 1 in
    let again = read_again x.own f y place in
    record {
      value = again.value;
      is = record {
        own = x.own;
        behind = place;
        body = body;
        tokens = tokens x.own f y place ++ end_line (place + length (line x.own f y place)) ∷ [];
        end = last.Text (place + length (line x.own f y place) + 4);
        cut = ap (header_of (codes "fn")) (append_assoc (codes "fn " ++ f.name ++ codes "\n") (printed f) (codes "\nend\n"))
            ∙ (ap (λ z. header_of (codes "fn") (codes "fn " ++ z ++ codes "\n" ++ body)) own.same_name ∙ header_is x.own body own.is_name_of own.is_header);
        has = has_tokens x.own f y place;
        answers = record {
          is = section_is x.own f y place;
          ends = refl;
          shallow = record { below = fronts_shallow start (tokens x.own f y place ++ end_line (place + length (line x.own f y place)) ∷ []) (omega arith) (shallow_again x.own f y place) };
        };
      };
      same = again.same;
    }
