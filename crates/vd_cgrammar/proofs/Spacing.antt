-- What stands in front of a space is one token.
use Rattle.std.proofs.Common.{ℕ, ◌+◌, ◌≡◌, Bool, true, false, ◌&&◌, List, [], ◌∷◌, ◌++◌, length, Option, Some, None, refl, sym, ◌∙◌, ap, subst, inl, inr, arith, append_assoc, length-append}
use Rattle.std.specs.Prelude.{◌==◌, if◌then◌else◌}
use Rattle.std.specs.List.{list_any}
use Rattle.std.proofs.lemmas.Bool.{eqb-true, ne_eqb}
use Rattle.vd_tokens.specs.declared.alphabet.Alphabet.TheVariants.{C}
use Rattle.vd_tokens.specs.declared.token.TokenKind.{TokenKind}
use Rattle.vd_tokens.specs.declared.token.End.TheVariants as end
use Rattle.vd_tokens.specs.Bytes.{is_digit, is_letter, is_word_byte, is_blank, AllBytes}
use Rattle.vd_tokens.specs.Signs.{singles, pairs, is_two}
use Rattle.vd_tokens.specs.Text.{IsDecimal, Shape, Token, Gap, IsElement, IsFirst, Tokenizes, word, number, suffixed, single, pair, blank, ends, behind_gap, token}
use Rattle.vd_tokens.specs.Shapes.{all_bytes, suffix_on, digits_on, number_on, shape_of, shape_is, digit_no_letter, or_parts, and_parts}
use Rattle.vd_cgrammar.specs.PrintLaw.{SpacedWord, spaced_text, spaced_tokens}

-- A space or a line feed.
data IsSpace : ℕ → Type 0 where
  space : IsSpace 32
  line_feed : IsSpace 10

space_is : (b : ℕ) → is_blank b ≡ true → IsSpace b
space_is b h = elim (or_parts (b == 32) (b == 10) h) [
  | inl e ↦ subst IsSpace (sym (eqb-true b 32 e)) space
  | inr e ↦ subst IsSpace (sym (eqb-true b 10 e)) line_feed
]

-- ---- a word

and_false : (a : Bool) → (a && false) ≡ false
and_false true = refl
and_false false = refl

stops : (b : ℕ) → IsSpace b → is_word_byte b ≡ false
stops _ space = refl
stops _ line_feed = refl

word_stops : (bs more : List ℕ) (b : ℕ) → IsSpace b → all_bytes is_word_byte (bs ++ b ∷ more) ≡ false
word_stops [] more b s = rw (stops b s) refl
word_stops (x ∷ bs) more b s = rw (word_stops bs more b s) (and_false (is_word_byte x))

word_none : (x : ℕ) (bs more : List ℕ) (b : ℕ) → IsSpace b → is_letter x ≡ true → shape_of C (x ∷ (bs ++ b ∷ more)) ≡ None
word_none x bs more b s h = rw (h, word_stops bs more b s) refl

-- ---- a number

suffix_stops : (more : List ℕ) (b : ℕ) → IsSpace b → suffix_on C (b ∷ more) ≡ false
suffix_stops more _ space = refl
suffix_stops more _ line_feed = refl

digits_stop : (ds more : List ℕ) (b : ℕ) → IsSpace b → AllBytes is_digit ds → digits_on C (ds ++ b ∷ more) ≡ false
digits_stop [] more _ space h = refl
digits_stop [] more _ line_feed h = refl
digits_stop (d ∷ ds) more b s h = rw h.0 (digits_stop ds more b s h.1)

suffixed_stop : (ds more : List ℕ) (b : ℕ) → AllBytes is_digit ds → digits_on C (ds ++ 117 ∷ b ∷ more) ≡ false
suffixed_stop [] more b h = refl
suffixed_stop (d ∷ ds) more b h = rw h.0 (suffixed_stop ds more b h.1)

number_none : (d : ℕ) (bs : List ℕ) → is_digit d ≡ true → number_on C d bs ≡ false → shape_of C (d ∷ bs) ≡ None
number_none d bs h g = rw (digit_no_letter d h, h, g) refl

same_if : (b x : Bool) → x ≡ false → (if b then x else x) ≡ false
same_if true x h = h
same_if false x h = h

both_if : (t x y : Bool) → x ≡ false → y ≡ false → (if t then x else y) ≡ false
both_if true x y h g = h
both_if false x y h g = g

decimal_none : (ds more : List ℕ) (b : ℕ) → IsSpace b → IsDecimal ds → shape_of C (ds ++ b ∷ more) ≡ None
decimal_none [] more b s h = absurd h
decimal_none (d ∷ []) more b s h =
    number_none d (b ∷ more) h (both_if (d == 48) (suffix_on C (b ∷ more)) (digits_on C (b ∷ more)) (suffix_stops more b s) (digits_stop [] more b s tt))
decimal_none (d ∷ c ∷ ds) more b s h = number_none d (c ∷ ds ++ b ∷ more) h.0 (rw (ne_eqb d 48 h.1) (digits_stop (c ∷ ds) more b s h.2))

suffixed_none : (ds more : List ℕ) (b : ℕ) → IsDecimal ds → shape_of C (ds ++ 117 ∷ b ∷ more) ≡ None
suffixed_none [] more b h = absurd h
suffixed_none (d ∷ []) more b h =
    number_none d (117 ∷ b ∷ more) h (both_if (d == 48) (suffix_on C (117 ∷ b ∷ more)) (digits_on C (117 ∷ b ∷ more)) refl (suffixed_stop [] more b tt))
suffixed_none (d ∷ c ∷ ds) more b h = number_none d (c ∷ ds ++ 117 ∷ b ∷ more) h.0 (rw (ne_eqb d 48 h.1) (suffixed_stop (c ∷ ds) more b h.2))

-- ---- a sign

abbrev is_none : Option Shape → Bool
is_none None = true
is_none (Some s) = false

none_is : (o : Option Shape) → is_none o ≡ true → o ≡ None
none_is None h = refl
none_is (Some s) h = cc

any_single : (q : ℕ → Bool) (xs : List ℕ) (b : ℕ) → list_any (λ x. x == b) xs ≡ true → all_bytes q xs ≡ true → q b ≡ true
any_single q [] b h g = cc
any_single q (x ∷ xs) b h g = let p = and_parts (q x) (all_bytes q xs) g in elim (or_parts (x == b) (list_any (λ y. y == b) xs) h) [
  | inl e ↦ ap q (sym (eqb-true x b e)) ∙ p.0
  | inr e ↦ any_single q xs b e p.1
]

abbrev all_lists : (List ℕ → Bool) → List (List ℕ) → Bool
all_lists p [] = true
all_lists p (x ∷ xs) = p x && all_lists p xs

two_is : (x : List ℕ) (b c : ℕ) → is_two x b c ≡ true → x ≡ b ∷ c ∷ []
two_is [] b c h = cc
two_is (x ∷ []) b c h = cc
two_is (x ∷ y ∷ []) b c h = let p = and_parts (x == b) (y == c) h in let e : x ≡ b = eqb-true x b p.0 in let f : y ≡ c = eqb-true y c p.1 in cc
two_is (x ∷ y ∷ z ∷ zs) b c h = cc

any_pair : (q : List ℕ → Bool) (xs : List (List ℕ)) (b c : ℕ) → list_any (λ x. is_two x b c) xs ≡ true → all_lists q xs ≡ true → q (b ∷ c ∷ []) ≡ true
any_pair q [] b c h g = cc
any_pair q (x ∷ xs) b c h g = let p = and_parts (q x) (all_lists q xs) g in elim (or_parts (is_two x b c) (list_any (λ y. is_two y b c) xs) h) [
  | inl e ↦ ap q (sym (two_is x b c e)) ∙ p.0
  | inr e ↦ any_pair q xs b c e p.1
]

single_fit : (more : List ℕ) (b : ℕ) → IsSpace b → all_bytes (λ x. is_none (shape_of C (x ∷ b ∷ more))) (singles C) ≡ true
single_fit [] _ space = refl
single_fit [] _ line_feed = refl
single_fit (m ∷ more) _ space = refl
single_fit (m ∷ more) _ line_feed = refl

pair_fit : (more : List ℕ) (b : ℕ) → IsSpace b → all_lists (λ xs. is_none (shape_of C (xs ++ b ∷ more))) (pairs C) ≡ true
pair_fit more _ space = refl
pair_fit more _ line_feed = refl

-- ---- each token

no_longer : {k : TokenKind} {w : List ℕ} → IsElement C (Token k) w → (b : ℕ) (more : List ℕ) → IsSpace b → shape_of C (w ++ b ∷ more) ≡ None
no_longer (word {b = x} {bs = bs} h a) b more s = word_none x bs more b s h
no_longer (number {ds = ds} h) b more s = decimal_none ds more b s h
no_longer (suffixed ds allowed cut h) b more s =
    ap (shape_of C) (ap (λ z. z ++ b ∷ more) cut ∙ append_assoc ds (117 ∷ []) (b ∷ more)) ∙ suffixed_none ds more b h
no_longer (single {b = x} h) b more s = none_is (shape_of C (x ∷ b ∷ more)) (any_single (λ y. is_none (shape_of C (y ∷ b ∷ more))) (singles C) x h (single_fit more b s))
no_longer (pair {b = x} {c = y} h) b more s = none_is (shape_of C (x ∷ y ∷ b ∷ more)) (any_pair (λ z. is_none (shape_of C (z ++ b ∷ more))) (pairs C) x y h (pair_fit more b s))

first_token : {k : TokenKind} {w : List ℕ} → IsElement C (Token k) w → (b : ℕ) (rest : List ℕ) → IsSpace b → IsFirst C (Token k) (w ++ b ∷ rest) w (b ∷ rest)
first_token {w = w} x b rest s = record {
  cut = refl;
  is = x;
  longest = λ other c more others e y. longer other c more others e y;
}
  where
    longer : (other : Shape) (c : ℕ) (more others : List ℕ) → b ∷ rest ≡ c ∷ (more ++ others) → IsElement C other (w ++ c ∷ more) → ⊥
    longer other c more others e y =
        let same : c ≡ b = cc in
        let e : Some other ≡ None = sym (shape_is y) ∙ no_longer x c more (subst IsSpace (sym same) s) in
        cc

gap_none : (b c : ℕ) (more : List ℕ) → IsSpace b → shape_of C (b ∷ c ∷ more) ≡ None
gap_none _ c more space = refl
gap_none _ c more line_feed = refl

first_gap : (b : ℕ) (rest : List ℕ) → IsSpace b → is_blank b ≡ true → IsFirst C Gap (b ∷ rest) (b ∷ []) rest
first_gap b rest s h = record {
  cut = refl;
  is = blank h;
  longest = λ other c more others e y. let f : Some other ≡ None = sym (shape_is y) ∙ gap_none b c more s in cc;
}

-- ---- the words in order

pub spaced_are_tokens : (place : ℕ) (xs : List SpacedWord) → Tokenizes C place (spaced_text xs) (spaced_tokens place xs) (end.Text (place + length (spaced_text xs)))
spaced_are_tokens place [] = subst (λ n. Tokenizes C place [] [] (end.Text n)) (omega arith) ends
spaced_are_tokens place (x ∷ xs) =
    let rest = spaced_text xs in
    let s = space_is x.blank x.is_space in
    let after = place + length x.word + 1 in
    let h : after + length rest ≡ place + length (x.word ++ x.blank ∷ rest) = omega (arith, length-append x.word (x.blank ∷ rest)) in
    let more = subst (λ n. Tokenizes C after rest (spaced_tokens after xs) (end.Text n)) h (spaced_are_tokens after xs) in
    let whole = token (first_token x.is_token x.blank rest s) (behind_gap (first_gap x.blank rest s x.is_space) more) in
    subst (λ t. Tokenizes C place t (spaced_tokens place (x ∷ xs)) (end.Text (place + length t))) (sym (append_assoc x.word (x.blank ∷ []) rest)) whole
