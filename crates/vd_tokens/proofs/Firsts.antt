-- The longest element in front of a text, by its first byte.
use Rattle.std.proofs.Common.{ℕ, zero, suc, ◌+◌, ◌≡◌, Bool, true, false, ◌||◌, ◌&&◌, List, [], ◌∷◌, ◌++◌, take, drop, Some, None, refl, sym, ◌∙◌, ap, subst, ◌⊎◌, inl, inr, arith, append_assoc}
use Rattle.std.specs.Prelude.{◌==◌}
use Rattle.std.proofs.Math.Numerals.{add-one}
use Rattle.std.proofs.lemmas.List.{append-nil, take-append-drop}
use Rattle.std.proofs.lemmas.Bool.{ne_eqb, eqb-true, eqb-false}
use Rattle.vd_tokens.specs.declared.alphabet.Alphabet.{Alphabet}
use Rattle.vd_tokens.specs.declared.token.TokenKind.TheVariants as kind
use Rattle.vd_tokens.specs.declared.element.Element.TheVariants as element
use Rattle.vd_tokens.specs.declared.run.Run.TheVariants as run
use Rattle.vd_tokens.specs.Bytes.{is_digit, is_letter, is_word_byte, is_blank, is_no_line_feed, AllBytes}
use Rattle.vd_tokens.specs.Signs.{is_single, is_pair, allows_suffix}
use Rattle.vd_tokens.specs.Text.{IsDecimal, starts_close, has_close, Shape, Token, Gap, Unclosed, IsElement, word, number, suffixed, single, pair, blank, line, stars, unclosed, IsFirst}
use Rattle.vd_tokens.specs.Shapes.{all_bytes, is_nothing, when, suffix_on, digits_on, number_on, closes_at_end, stars_shape, slash_shape, sign_on, shape_of, shape_is, and_parts, or_false, and_false, digit_no_letter, blank_plain}
use Rattle.vd_tokens.specs.Head.{passes, StopsAt, starts_with, begins_pair, begins_suffix, ClosesAt, Digits, IsOther, BeginsNone, nothing, open_comment, IsHead}

-- ---- what is longest

-- No element goes on behind the front.
NoLonger : Alphabet → List ℕ → List ℕ → Type 0
NoLonger alphabet front rest = (c : ℕ) (more tail : List ℕ) → rest ≡ c ∷ (more ++ tail) → shape_of alphabet (front ++ c ∷ more) ≡ None

first_of_text : (alphabet : Alphabet) (shape : Shape) (text front rest : List ℕ) → text ≡ front ++ rest → IsElement alphabet shape front → NoLonger alphabet front rest → IsFirst alphabet shape text front rest
unfolding NoLonger
first_of_text alphabet shape text front rest cut x f = record { cut = cut; is = x; longest = λ other c more tail h y. let e = f c more tail h in let g = shape_is y in cc }

take_cut : (b n : ℕ) (bs : List ℕ) → b ∷ bs ≡ (b ∷ take n bs) ++ drop n bs
take_cut b n bs = ap (λ r. b ∷ r) (sym (take-append-drop n bs))

first_at : (alphabet : Alphabet) (shape : Shape) (b n : ℕ) (bs : List ℕ) → IsElement alphabet shape (b ∷ take n bs) → NoLonger alphabet (b ∷ take n bs) (drop n bs)
    → IsFirst alphabet shape (b ∷ bs) (b ∷ take n bs) (drop n bs)
first_at alphabet shape b n bs x f = first_of_text alphabet shape (b ∷ bs) (b ∷ take n bs) (drop n bs) (take_cut b n bs) x f

nothing_first : (alphabet : Alphabet) (b : ℕ) (bs : List ℕ) → ((more tail : List ℕ) → bs ≡ more ++ tail → shape_of alphabet (b ∷ more) ≡ None) → BeginsNone alphabet (b ∷ bs)
nothing_first alphabet b bs f = nothing (λ shape front rest h x. by_front shape front rest h x)
  where
    by_front : (shape : Shape) (front rest : List ℕ) → b ∷ bs ≡ front ++ rest → IsElement alphabet shape front → ⊥
    by_front shape [] rest h x = let g = shape_is x in cc
    by_front shape (c ∷ front) rest h x =
        let same : b ≡ c = cc in
        let tails : bs ≡ front ++ rest = cc in
        let e = f front rest tails in
        let g : shape_of alphabet (b ∷ front) ≡ Some shape = subst (λ z. shape_of alphabet (z ∷ front) ≡ Some shape) (sym same) (shape_is x) in
        cc

-- ---- tests

stops_first : (p : ℕ → Bool) (rest : List ℕ) (c : ℕ) (more : List ℕ) → StopsAt p rest → rest ≡ c ∷ more → p c ≡ false
stops_first p [] c more s h = cc
stops_first p (d ∷ rest) c more s h = let same : d ≡ c = cc in ap p (sym same) ∙ s

starts_true : (b : ℕ) (bs : List ℕ) → starts_with b bs ≡ true → bs ≡ b ∷ drop 1 bs
starts_true b [] h = cc
starts_true b (c ∷ bs) h = ap (λ x. x ∷ bs) (eqb-true c b h)

starts_false : (b : ℕ) (bs : List ℕ) → starts_with b bs ≡ false → StopsAt (λ c. c == b) bs
starts_false b [] h = tt
starts_false b (c ∷ bs) h = h

-- A run that goes on with another byte does not pass.
run_stops : (p : ℕ → Bool) (bs : List ℕ) (c : ℕ) (more : List ℕ) → p c ≡ false → all_bytes p (bs ++ c ∷ more) ≡ false
run_stops p [] c more h = rw h refl
run_stops p (b ∷ bs) c more h = rw (run_stops p bs c more h) (and_false (p b))

-- ---- words

pub word_answer : (alphabet : Alphabet) (b n : ℕ) (bs : List ℕ) → is_letter b ≡ true → AllBytes (passes run.Word) (take n bs) → StopsAt (passes run.Word) (drop n bs)
    → IsHead alphabet b bs (element.Token kind.Word n)
unfolding NoLonger
word_answer alphabet b n bs l a s = first_at alphabet (Token kind.Word) b n bs (word l a)
    (λ c more tail h. rw (l, run_stops is_word_byte (take n bs) c more (stops_first is_word_byte (drop n bs) c (more ++ tail) s h)) refl)

-- ---- gaps

pub blank_answer : (alphabet : Alphabet) (b : ℕ) (bs : List ℕ) → is_blank b ≡ true → IsHead alphabet b bs (element.Gap 0)
unfolding NoLonger
blank_answer alphabet b bs h = let p = blank_plain b h in first_at alphabet Gap b 0 bs (blank h) (λ c more tail g. rw (p.0, p.1, h) refl)

line_first : (alphabet : Alphabet) (n : ℕ) (bs : List ℕ) → AllBytes is_no_line_feed (take n bs) → StopsAt is_no_line_feed (drop n bs) → IsHead alphabet 47 (47 ∷ bs) (element.Gap (suc n))
unfolding NoLonger
line_first alphabet n bs a s = first_at alphabet Gap 47 (suc n) (47 ∷ bs) (line a)
    (λ c more tail h. rw (run_stops is_no_line_feed (take n bs) c more (stops_first is_no_line_feed (drop n bs) c (more ++ tail) s h)) refl)

pub line_answer : (alphabet : Alphabet) (bs behind : List ℕ) (n : ℕ) → starts_with 47 bs ≡ true → behind ≡ drop 1 bs → AllBytes (passes run.Line) (take n behind) → StopsAt (passes run.Line) (drop n behind)
    → IsHead alphabet 47 bs (element.Gap (n + 1))
line_answer alphabet bs behind n h e a s =
    let whole : bs ≡ 47 ∷ behind = starts_true 47 bs h ∙ ap (λ r. 47 ∷ r) (sym e) in
    subst (λ r. IsHead alphabet 47 r (element.Gap (n + 1))) (sym whole) (subst (λ m. IsHead alphabet 47 (47 ∷ behind) (element.Gap m)) (sym (add-one n)) (line_first alphabet n behind a s))

has_close-front : (bs more : List ℕ) → has_close bs ≡ true → has_close (bs ++ more) ≡ true
has_close-front [] more h = cc
has_close-front (b ∷ []) more h = cc
has_close-front (b ∷ c ∷ bs) more h = by_case (starts_close (b ∷ c ∷ bs)) refl h (has_close-front (c ∷ bs) more)
  where
    by_case : (t : Bool) → starts_close (b ∷ c ∷ bs) ≡ t → (t || has_close (c ∷ bs)) ≡ true → (has_close (c ∷ bs) ≡ true → has_close (c ∷ bs ++ more) ≡ true)
        → (starts_close (b ∷ c ∷ bs) || has_close (c ∷ bs ++ more)) ≡ true
    by_case true e g ih = rw e refl
    by_case false e g ih = rw e (ih g)

closes_early : (bs : List ℕ) (c : ℕ) (more : List ℕ) → has_close (bs ++ 42 ∷ []) ≡ false → closes_at_end ((bs ++ 42 ∷ 47 ∷ []) ++ c ∷ more) ≡ false
closes_early [] c more h = refl
closes_early (b ∷ []) c more h = rw and_false refl
closes_early (b ∷ d ∷ bs) c more h = let p = or_false (starts_close (b ∷ d ∷ (bs ++ 42 ∷ []))) (has_close (d ∷ bs ++ 42 ∷ [])) h in rw p.0 (closes_early (d ∷ bs) c more p.1)

or_true : (a : Bool) → (a || true) ≡ true
or_true true = refl
or_true false = refl

has_close-here : (bs more : List ℕ) → has_close (bs ++ 42 ∷ 47 ∷ more) ≡ true
has_close-here [] more = refl
has_close-here (b ∷ bs) more = rw (has_close-here bs more) (or_true (starts_close (b ∷ bs ++ 42 ∷ 47 ∷ more)))

take_two : (n : ℕ) (bs r : List ℕ) → bs ≡ take n bs ++ 42 ∷ 47 ∷ r → take (suc (suc n)) bs ≡ take n bs ++ 42 ∷ 47 ∷ []
take_two zero bs r h = rw h refl
take_two (suc n) [] r h = cc
take_two (suc n) (b ∷ bs) r h = let tails : bs ≡ take n bs ++ 42 ∷ 47 ∷ r = cc in ap (λ q. b ∷ q) (take_two n bs r tails)

stars_longer : (alphabet : Alphabet) (inner : List ℕ) (c : ℕ) (more : List ℕ) → has_close (inner ++ 42 ∷ []) ≡ false → stars_shape ((inner ++ 42 ∷ 47 ∷ []) ++ c ∷ more) ≡ None
stars_longer alphabet inner c more h =
    let there : has_close ((inner ++ 42 ∷ 47 ∷ []) ++ c ∷ more) ≡ true = ap has_close (append_assoc inner (42 ∷ 47 ∷ []) (c ∷ more)) ∙ has_close-here inner (c ∷ more) in
    rw (there, closes_early inner c more h) refl

stars_first : (alphabet : Alphabet) (n : ℕ) (bs : List ℕ) → ClosesAt bs n → IsHead alphabet 47 (42 ∷ bs) (element.Gap (suc (suc (suc n))))
unfolding NoLonger
stars_first alphabet n bs c =
    let taken = take_two n bs (drop (n + 2) bs) c.cut in
    first_at alphabet Gap 47 (suc (suc (suc n))) (42 ∷ bs) (stars (take n bs) taken c.first)
    (λ d more tail h. subst (λ x. stars_shape (x ++ d ∷ more) ≡ None) (sym taken) (stars_longer alphabet (take n bs) d more c.first))

three_more : (n : ℕ) → suc (suc (suc n)) ≡ n + 3
three_more n = omega arith

pub stars_answer : (alphabet : Alphabet) (bs behind : List ℕ) (n : ℕ) → starts_with 42 bs ≡ true → behind ≡ drop 1 bs → ClosesAt behind n → IsHead alphabet 47 bs (element.Gap (n + 3))
stars_answer alphabet bs behind n h e c =
    let whole : bs ≡ 42 ∷ behind = starts_true 42 bs h ∙ ap (λ r. 42 ∷ r) (sym e) in
    subst (λ r. IsHead alphabet 47 r (element.Gap (n + 3))) (sym whole) (subst (λ m. IsHead alphabet 47 (42 ∷ behind) (element.Gap m)) (three_more n) (stars_first alphabet n behind c))

open_first : (alphabet : Alphabet) (bs : List ℕ) → has_close bs ≡ false → IsFirst alphabet Unclosed (47 ∷ 42 ∷ bs) (47 ∷ 42 ∷ bs) []
unfolding NoLonger
open_first alphabet bs h = first_of_text alphabet Unclosed (47 ∷ 42 ∷ bs) (47 ∷ 42 ∷ bs) [] (ap (λ r. 47 ∷ 42 ∷ r) (sym (append-nil bs))) (unclosed h) (λ c more tail g. cc)

pub open_answer : (alphabet : Alphabet) (bs behind : List ℕ) → starts_with 42 bs ≡ true → behind ≡ drop 1 bs → has_close behind ≡ false → IsHead alphabet 47 bs element.Unknown
open_answer alphabet bs behind h e n =
    let whole : bs ≡ 42 ∷ behind = starts_true 42 bs h ∙ ap (λ r. 42 ∷ r) (sym e) in
    subst (λ r. IsHead alphabet 47 r element.Unknown) (sym whole) (open_comment (47 ∷ 42 ∷ behind) [] (open_first alphabet behind n))

-- ---- signs

-- Behind a slash that begins no comment nothing goes on.
slash_longer : (alphabet : Alphabet) (bs : List ℕ) → starts_with 47 bs ≡ false → starts_with 42 bs ≡ false → (c : ℕ) (more tail : List ℕ) → bs ≡ c ∷ (more ++ tail) → slash_shape alphabet (c ∷ more) ≡ None
slash_longer alphabet bs h g c more tail e =
    rw (stops_first (λ b. b == 47) bs c (more ++ tail) (starts_false 47 bs h) e, stops_first (λ b. b == 42) bs c (more ++ tail) (starts_false 42 bs g) e) refl

pub slash_answer : (alphabet : Alphabet) (bs : List ℕ) → starts_with 47 bs ≡ false → starts_with 42 bs ≡ false → is_single alphabet 47 ≡ true → IsHead alphabet 47 bs (element.Token kind.Sign 0)
unfolding NoLonger
slash_answer alphabet bs h g s = first_at alphabet (Token kind.Sign) 47 0 bs (single s) (λ c more tail e. slash_longer alphabet bs h g c more tail e)

pub no_slash_answer : (alphabet : Alphabet) (bs : List ℕ) → starts_with 47 bs ≡ false → starts_with 42 bs ≡ false → is_single alphabet 47 ≡ false → IsHead alphabet 47 bs element.Unknown
no_slash_answer alphabet bs h g s = nothing_first alphabet 47 bs (λ more tail e. by_more more tail e)
  where
    by_more : (more tail : List ℕ) → bs ≡ more ++ tail → slash_shape alphabet more ≡ None
    by_more [] tail e = rw s refl
    by_more (c ∷ more) tail e = slash_longer alphabet bs h g c more tail e

other_shape : (alphabet : Alphabet) (b : ℕ) (bs : List ℕ) → IsOther b → shape_of alphabet (b ∷ bs) ≡ when (sign_on alphabet b bs) (Token kind.Sign)
other_shape alphabet b bs o = rw (o.letter, o.digit, o.blank, ne_eqb b 47 o.slash) refl

three_bytes : (alphabet : Alphabet) (b c d : ℕ) (more : List ℕ) → IsOther b → shape_of alphabet (b ∷ c ∷ d ∷ more) ≡ None
three_bytes alphabet b c d more o = other_shape alphabet b (c ∷ d ∷ more) o

pair_first : (alphabet : Alphabet) (b c : ℕ) (bs : List ℕ) → IsOther b → is_pair alphabet b c ≡ true → IsHead alphabet b (c ∷ bs) (element.Token kind.Sign 1)
unfolding NoLonger
pair_first alphabet b c bs o h = first_at alphabet (Token kind.Sign) b 1 (c ∷ bs) (pair h) (λ d more tail e. three_bytes alphabet b c d more o)

pub pair_answer : (alphabet : Alphabet) (b : ℕ) (bs : List ℕ) → IsOther b → begins_pair alphabet b bs ≡ true → IsHead alphabet b bs (element.Token kind.Sign 1)
pair_answer alphabet b [] o h = cc
pair_answer alphabet b (c ∷ bs) o h = pair_first alphabet b c bs o h

no_pair : (alphabet : Alphabet) (b : ℕ) (bs : List ℕ) → IsOther b → begins_pair alphabet b bs ≡ false → (c : ℕ) (more tail : List ℕ) → bs ≡ c ∷ (more ++ tail) → shape_of alphabet (b ∷ c ∷ more) ≡ None
no_pair alphabet b [] o h c more tail e = cc
no_pair alphabet b (x ∷ bs) o h c [] tail e = let same : x ≡ c = cc in other_shape alphabet b (c ∷ []) o ∙ ap (λ t. when t (Token kind.Sign)) (ap (is_pair alphabet b) (sym same) ∙ h)
no_pair alphabet b (x ∷ bs) o h c (d ∷ more) tail e = three_bytes alphabet b c d more o

pub single_answer : (alphabet : Alphabet) (b : ℕ) (bs : List ℕ) → IsOther b → begins_pair alphabet b bs ≡ false → is_single alphabet b ≡ true → IsHead alphabet b bs (element.Token kind.Sign 0)
unfolding NoLonger
single_answer alphabet b bs o h s = first_at alphabet (Token kind.Sign) b 0 bs (single s) (λ c more tail e. no_pair alphabet b bs o h c more tail e)

pub no_sign_answer : (alphabet : Alphabet) (b : ℕ) (bs : List ℕ) → IsOther b → begins_pair alphabet b bs ≡ false → is_single alphabet b ≡ false → IsHead alphabet b bs element.Unknown
no_sign_answer alphabet b bs o h s = nothing_first alphabet b bs (λ more tail e. by_more more tail e)
  where
    by_more : (more tail : List ℕ) → bs ≡ more ++ tail → shape_of alphabet (b ∷ more) ≡ None
    by_more [] tail e = other_shape alphabet b [] o ∙ ap (λ t. when t (Token kind.Sign)) s
    by_more (c ∷ more) tail e = no_pair alphabet b bs o h c more tail e

-- ---- numbers

decimal_of : (b n : ℕ) (bs : List ℕ) → Digits b n bs → IsDecimal (b ∷ take n bs)
decimal_of b n bs d = by_shape d.shape
  where
    longer : (ds : List ℕ) → (b ≡ 48 → ⊥) → AllBytes is_digit ds → IsDecimal (b ∷ ds)
    longer [] ne a = d.first
    longer (c ∷ ds) ne a = (d.first, ne, a)

    by_shape : (((b == 48) ≡ true) × (n ≡ 0)) ⊎ (((b == 48) ≡ false) × AllBytes is_digit (take n bs) × StopsAt is_digit (drop n bs)) → IsDecimal (b ∷ take n bs)
    by_shape (inl h) = subst (λ m. IsDecimal (b ∷ take m bs)) (sym h.1) d.first
    by_shape (inr h) = longer (take n bs) (eqb-false b 48 h.0) h.1

number_none : (alphabet : Alphabet) (b : ℕ) (bs : List ℕ) → is_digit b ≡ true → number_on alphabet b bs ≡ false → shape_of alphabet (b ∷ bs) ≡ None
number_none alphabet b bs h g = rw (digit_no_letter b h, h, g) refl

no_suffix : (alphabet : Alphabet) (rest : List ℕ) (c : ℕ) (more tail : List ℕ) → begins_suffix alphabet rest ≡ false → rest ≡ c ∷ (more ++ tail) → suffix_on alphabet (c ∷ more) ≡ false
no_suffix alphabet [] c more tail h e = cc
no_suffix alphabet (d ∷ rest) c more tail h e =
    let same : d ≡ c = cc in
    let test : (allows_suffix alphabet && (c == 117)) ≡ false = subst (λ x. (allows_suffix alphabet && (x == 117)) ≡ false) same h in
    by_test (allows_suffix alphabet) (c == 117) test
  where
    by_test : (a t : Bool) → (a && t) ≡ false → (a && (t && is_nothing more)) ≡ false
    by_test true true h = cc
    by_test true false h = refl
    by_test false t h = refl

digits_end : (alphabet : Alphabet) (ds : List ℕ) (c : ℕ) (more : List ℕ) → AllBytes is_digit ds → is_digit c ≡ false → suffix_on alphabet (c ∷ more) ≡ false → digits_on alphabet (ds ++ c ∷ more) ≡ false
digits_end alphabet [] c more a h g = rw h g
digits_end alphabet (d ∷ ds) c more a h g = rw a.0 (digits_end alphabet ds c more a.1 h g)

suffix_last : (alphabet : Alphabet) (c : ℕ) (more : List ℕ) → suffix_on alphabet (117 ∷ c ∷ more) ≡ false
suffix_last alphabet c more = and_false (allows_suffix alphabet)

digits_suffix_end : (alphabet : Alphabet) (ds : List ℕ) (c : ℕ) (more : List ℕ) → AllBytes is_digit ds → digits_on alphabet ((ds ++ 117 ∷ []) ++ c ∷ more) ≡ false
digits_suffix_end alphabet [] c more a = suffix_last alphabet c more
digits_suffix_end alphabet (d ∷ ds) c more a = rw a.0 (digits_suffix_end alphabet ds c more a.1)

number_stops : (alphabet : Alphabet) (b n : ℕ) (bs : List ℕ) (c : ℕ) (more tail : List ℕ) → Digits b n bs → begins_suffix alphabet (drop n bs) ≡ false → drop n bs ≡ c ∷ (more ++ tail) → number_on alphabet b (take n bs ++ c ∷ more) ≡ false
number_stops alphabet b n bs c more tail d s h = by_shape d.shape
  where
    by_shape : (((b == 48) ≡ true) × (n ≡ 0)) ⊎ (((b == 48) ≡ false) × AllBytes is_digit (take n bs) × StopsAt is_digit (drop n bs)) → number_on alphabet b (take n bs ++ c ∷ more) ≡ false
    by_shape (inl z) = rw z.0 (subst (λ m. suffix_on alphabet (take m bs ++ c ∷ more) ≡ false) (sym z.1) (no_suffix alphabet (drop n bs) c more tail s h))
    by_shape (inr z) = rw z.0 (digits_end alphabet (take n bs) c more z.1 (stops_first is_digit (drop n bs) c (more ++ tail) z.2 h) (no_suffix alphabet (drop n bs) c more tail s h))

pub number_answer : (alphabet : Alphabet) (b n : ℕ) (bs behind : List ℕ) → Digits b n bs → behind ≡ drop n bs → begins_suffix alphabet behind ≡ false → IsHead alphabet b bs (element.Token kind.Number n)
unfolding NoLonger
number_answer alphabet b n bs behind d e s = first_at alphabet (Token kind.Number) b n bs (number (decimal_of b n bs d))
    (λ c more tail h. number_none alphabet b (take n bs ++ c ∷ more) d.first (number_stops alphabet b n bs c more tail d (ap (begins_suffix alphabet) (sym e) ∙ s) h))

take_one : (n : ℕ) (bs r : List ℕ) (c : ℕ) → drop n bs ≡ c ∷ r → take (suc n) bs ≡ take n bs ++ c ∷ []
take_one zero bs r c h = rw h refl
take_one (suc n) [] r c h = cc
take_one (suc n) (b ∷ bs) r c h = ap (λ q. b ∷ q) (take_one n bs r c h)

suffix_stops : (alphabet : Alphabet) (b n : ℕ) (bs : List ℕ) (c : ℕ) (more : List ℕ) → Digits b n bs → number_on alphabet b ((take n bs ++ 117 ∷ []) ++ c ∷ more) ≡ false
suffix_stops alphabet b n bs c more d = by_shape d.shape
  where
    by_shape : (((b == 48) ≡ true) × (n ≡ 0)) ⊎ (((b == 48) ≡ false) × AllBytes is_digit (take n bs) × StopsAt is_digit (drop n bs)) → number_on alphabet b ((take n bs ++ 117 ∷ []) ++ c ∷ more) ≡ false
    by_shape (inl z) = rw z.0 (subst (λ m. suffix_on alphabet ((take m bs ++ 117 ∷ []) ++ c ∷ more) ≡ false) (sym z.1) (suffix_last alphabet c more))
    by_shape (inr z) = rw z.0 (digits_suffix_end alphabet (take n bs) c more z.1)

suffix_first : (alphabet : Alphabet) (b n : ℕ) (bs r : List ℕ) → Digits b n bs → allows_suffix alphabet ≡ true → drop n bs ≡ 117 ∷ r → IsHead alphabet b bs (element.Token kind.Number (suc n))
unfolding NoLonger
suffix_first alphabet b n bs r d s h =
    let taken = take_one n bs r 117 h in
    first_at alphabet (Token kind.Number) b (suc n) bs (suffixed (b ∷ take n bs) s (ap (λ q. b ∷ q) taken) (decimal_of b n bs d))
    (λ c more tail e. number_none alphabet b (take (suc n) bs ++ c ∷ more) d.first (subst (λ x. number_on alphabet b (x ++ c ∷ more) ≡ false) (sym taken) (suffix_stops alphabet b n bs c more d)))

pub suffix_answer : (alphabet : Alphabet) (b n : ℕ) (bs behind : List ℕ) → Digits b n bs → behind ≡ drop n bs → begins_suffix alphabet behind ≡ true → IsHead alphabet b bs (element.Token kind.Number (n + 1))
suffix_answer alphabet b n bs behind d e s =
    let p = and_parts (allows_suffix alphabet) (starts_with 117 behind) s in
    subst (λ m. IsHead alphabet b bs (element.Token kind.Number m)) (sym (add-one n)) (suffix_first alphabet b n bs (drop 1 behind) d p.0 (sym e ∙ starts_true 117 behind p.1))
