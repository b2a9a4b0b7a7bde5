-- The shape of bytes, as a test of them.
use Rattle.std.proofs.Common.{ℕ, ◌≤◌, ◌≡◌, Bool, true, false, ◌||◌, ◌&&◌, List, [], ◌∷◌, ◌++◌, drop, Option, Some, None, refl, sym, ◌∙◌, ap, subst, ◌⊎◌, inl, inr, arith}
use Rattle.std.specs.Prelude.{if◌then◌else◌, ◌==◌, nat_le}
use Rattle.std.specs.List.{list_any}
use Rattle.std.proofs.lemmas.Bool.{leb-true, lt-leb, ne_eqb, eqb-true}
use Rattle.vd_tokens.specs.declared.alphabet.Alphabet.{Alphabet}
use Rattle.vd_tokens.specs.declared.alphabet.Alphabet.TheVariants.{C, Declaration, Logic}
use Rattle.vd_tokens.specs.declared.token.TokenKind.TheVariants as kind
use Rattle.vd_tokens.specs.Bytes.{is_digit, is_letter, is_word_byte, is_blank, is_no_line_feed, AllBytes}
use Rattle.vd_tokens.specs.Signs.{singles, pairs, is_single, is_two, is_pair, allows_suffix}
use Rattle.vd_tokens.specs.Text.{IsDecimal, starts_close, has_close, Shape, Token, Gap, Unclosed, IsElement, word, number, suffixed, single, pair, blank, line, stars, unclosed}

-- every byte passes, as a test
abbrev pub all_bytes : (ℕ → Bool) → List ℕ → Bool
all_bytes p [] = true
all_bytes p (b ∷ bs) = p b && all_bytes p bs

-- no byte is left
abbrev pub is_nothing : List ℕ → Bool
is_nothing [] = true
is_nothing (b ∷ bs) = false

-- the shape, if the test passes
abbrev pub when : Bool → Shape → Option Shape
when true shape = Some shape
when false shape = None

-- nothing more, or `u` at the end
abbrev pub suffix_on : Alphabet → List ℕ → Bool
suffix_on alphabet [] = true
suffix_on alphabet (b ∷ bs) = allows_suffix alphabet && (b == 117 && is_nothing bs)

-- more digits, and perhaps the suffix
abbrev pub digits_on : Alphabet → List ℕ → Bool
digits_on alphabet [] = true
digits_on alphabet (b ∷ bs) = if is_digit b then digits_on alphabet bs else suffix_on alphabet (b ∷ bs)

-- what stands behind the first digit of a number
abbrev pub number_on : Alphabet → ℕ → List ℕ → Bool
number_on alphabet b bs = if b == 48 then suffix_on alphabet bs else digits_on alphabet bs

-- The first `*/` is at the end.
abbrev pub closes_at_end : List ℕ → Bool
closes_at_end [] = false
closes_at_end (b ∷ bs) = if starts_close (b ∷ bs) then is_nothing (drop 1 bs) else closes_at_end bs

-- behind `/*`
abbrev pub stars_shape : List ℕ → Option Shape
stars_shape bs = if has_close bs then when (closes_at_end bs) Gap else Some Unclosed

-- behind `/`
abbrev pub slash_shape : Alphabet → List ℕ → Option Shape
slash_shape alphabet [] = when (is_single alphabet 47) (Token kind.Sign)
slash_shape alphabet (b ∷ bs) = if b == 47 then when (all_bytes is_no_line_feed bs) Gap else (if b == 42 then stars_shape bs else None)

-- a sign, given its first byte
abbrev pub sign_on : Alphabet → ℕ → List ℕ → Bool
sign_on alphabet b [] = is_single alphabet b
sign_on alphabet b (c ∷ []) = is_pair alphabet b c
sign_on alphabet b (c ∷ d ∷ bs) = false

-- the shape of the bytes, if they have one
abbrev pub shape_of : Alphabet → List ℕ → Option Shape
shape_of alphabet [] = None
shape_of alphabet (b ∷ bs) =
    if is_letter b then when (all_bytes is_word_byte bs) (Token kind.Word) else (
    if is_digit b then when (number_on alphabet b bs) (Token kind.Number) else (
    if is_blank b then when (is_nothing bs) Gap else (
    if b == 47 then slash_shape alphabet bs else
    when (sign_on alphabet b bs) (Token kind.Sign))))

-- ---- tests

and_true : (a b : Bool) → a ≡ true → b ≡ true → (a && b) ≡ true
and_true true b h g = g
and_true false b h g = cc

pub and_parts : (a b : Bool) → (a && b) ≡ true → (a ≡ true) × (b ≡ true)
and_parts true b h = (refl, h)
and_parts false b h = cc

pub or_parts : (a b : Bool) → (a || b) ≡ true → (a ≡ true) ⊎ (b ≡ true)
or_parts true b h = inl refl
or_parts false b h = inr h

pub or_false : (a b : Bool) → (a || b) ≡ false → (a ≡ false) × (b ≡ false)
or_false true b h = cc
or_false false b h = (refl, h)

pub all_bytes_of : (p : ℕ → Bool) (bs : List ℕ) → AllBytes p bs → all_bytes p bs ≡ true
all_bytes_of p [] h = refl
all_bytes_of p (b ∷ bs) h = and_true (p b) (all_bytes p bs) h.0 (all_bytes_of p bs h.1)

pub digit_range : (b : ℕ) → is_digit b ≡ true → (48 ≤ b) × (b ≤ 57)
digit_range b h = let p = and_parts (nat_le 48 b) (nat_le b 57) h in (leb-true 48 b p.0, leb-true b 57 p.1)

pub digit_no_letter : (b : ℕ) → is_digit b ≡ true → is_letter b ≡ false
digit_no_letter b h =
    let r = digit_range b h in
    let low : b ≤ 57 = r.1 in
    rw (lt-leb 65 b (omega arith), lt-leb 97 b (omega arith), ne_eqb b 95 (λ e. omega arith)) refl

-- ---- numbers

number_shape : (alphabet : Alphabet) (b : ℕ) (bs : List ℕ) → is_digit b ≡ true → number_on alphabet b bs ≡ true → shape_of alphabet (b ∷ bs) ≡ Some (Token kind.Number)
number_shape alphabet b bs h g = rw (digit_no_letter b h, h, g) refl

same_if : (b : Bool) (x : Bool) → x ≡ true → (if b then x else x) ≡ true
same_if true x h = h
same_if false x h = h

digits_pass : (alphabet : Alphabet) (ds : List ℕ) → AllBytes is_digit ds → digits_on alphabet ds ≡ true
digits_pass alphabet [] h = refl
digits_pass alphabet (b ∷ bs) h = rw h.0 (digits_pass alphabet bs h.1)

digits_suffix_pass : (alphabet : Alphabet) (ds : List ℕ) → allows_suffix alphabet ≡ true → AllBytes is_digit ds → digits_on alphabet (ds ++ 117 ∷ []) ≡ true
digits_suffix_pass alphabet [] s h = rw s refl
digits_suffix_pass alphabet (b ∷ bs) s h = rw h.0 (digits_suffix_pass alphabet bs s h.1)

decimal_shape : (alphabet : Alphabet) (ds : List ℕ) → IsDecimal ds → shape_of alphabet ds ≡ Some (Token kind.Number)
decimal_shape alphabet [] h = absurd h
decimal_shape alphabet (b ∷ []) h = number_shape alphabet b [] h (same_if (b == 48) true refl)
decimal_shape alphabet (b ∷ c ∷ ds) h = number_shape alphabet b (c ∷ ds) h.0 (rw (ne_eqb b 48 h.1) (digits_pass alphabet (c ∷ ds) h.2))

suffixed_shape : (alphabet : Alphabet) (ds : List ℕ) → allows_suffix alphabet ≡ true → IsDecimal ds → shape_of alphabet (ds ++ 117 ∷ []) ≡ Some (Token kind.Number)
suffixed_shape alphabet [] s h = absurd h
suffixed_shape alphabet (b ∷ []) s h = number_shape alphabet b (117 ∷ []) h (same_if (b == 48) (allows_suffix alphabet && true) (rw s refl))
suffixed_shape alphabet (b ∷ c ∷ ds) s h = number_shape alphabet b (c ∷ ds ++ 117 ∷ []) h.0 (rw (ne_eqb b 48 h.1) (digits_suffix_pass alphabet (c ∷ ds) s h.2))

-- ---- signs

abbrev pub is_sign : Option Shape → Bool
is_sign (Some (Token kind.Sign)) = true
is_sign _ = false

sign_is : (o : Option Shape) → is_sign o ≡ true → o ≡ Some (Token kind.Sign)
sign_is (Some (Token kind.Sign)) h = refl
sign_is _ h = cc

any_single : (q : ℕ → Bool) (xs : List ℕ) (b : ℕ) → list_any (λ x. x == b) xs ≡ true → all_bytes q xs ≡ true → q b ≡ true
any_single q [] b h g = cc
any_single q (x ∷ xs) b h g = let p = and_parts (q x) (all_bytes q xs) g in elim (or_parts (x == b) (list_any (λ y. y == b) xs) h) [
  | inl e ↦ ap q (sym (eqb-true x b e)) ∙ p.0
  | inr e ↦ any_single q xs b e p.1
]

abbrev pub all_lists : (List ℕ → Bool) → List (List ℕ) → Bool
all_lists p [] = true
all_lists p (x ∷ xs) = p x && all_lists p xs

two_is : (x : List ℕ) (b c : ℕ) → is_two x b c ≡ true → x ≡ b ∷ c ∷ []
two_is [] b c h = cc
two_is (x ∷ []) b c h = cc
two_is (x ∷ y ∷ []) b c h = let p = and_parts (x == b) (y == c) h in let e : x ≡ b = eqb-true x b p.0 in let f : y ≡ c = eqb-true y c p.1 in cc
two_is (x ∷ y ∷ z ∷ zs) b c h = cc

any_pair : (q : List ℕ → Bool) (xs : List (List ℕ)) (b c : ℕ) → list_any (λ x. is_two x b c) xs ≡ true → all_lists q xs ≡ true → q (b ∷ c ∷ []) ≡ true
any_pair q [] b c h g = cc
any_pair q (x ∷ xs) b c h g = let p = and_parts (q x) (all_lists q xs) g in elim (or_parts (is_two x b c) (list_any (λ y. is_two y b c) xs) h) [
  | inl e ↦ ap q (sym (two_is x b c e)) ∙ p.0
  | inr e ↦ any_pair q xs b c e p.1
]

singles_fit : (alphabet : Alphabet) → all_bytes (λ b. is_sign (shape_of alphabet (b ∷ []))) (singles alphabet) ≡ true
singles_fit C = refl
singles_fit Declaration = refl
singles_fit Logic = refl

pairs_fit : (alphabet : Alphabet) → all_lists (λ bs. is_sign (shape_of alphabet bs)) (pairs alphabet) ≡ true
pairs_fit C = refl
pairs_fit Declaration = refl
pairs_fit Logic = refl

single_shape : (alphabet : Alphabet) (b : ℕ) → is_single alphabet b ≡ true → shape_of alphabet (b ∷ []) ≡ Some (Token kind.Sign)
single_shape alphabet b h = sign_is (shape_of alphabet (b ∷ [])) (any_single (λ x. is_sign (shape_of alphabet (x ∷ []))) (singles alphabet) b h (singles_fit alphabet))

pair_shape : (alphabet : Alphabet) (b c : ℕ) → is_pair alphabet b c ≡ true → shape_of alphabet (b ∷ c ∷ []) ≡ Some (Token kind.Sign)
pair_shape alphabet b c h = sign_is (shape_of alphabet (b ∷ c ∷ [])) (any_pair (λ x. is_sign (shape_of alphabet x)) (pairs alphabet) b c h (pairs_fit alphabet))

-- ---- gaps

pub blank_plain : (b : ℕ) → is_blank b ≡ true → (is_letter b ≡ false) × (is_digit b ≡ false)
blank_plain b h = by_case (or_parts (b == 32) (b == 10) h)
  where
    by_case : ((b == 32) ≡ true) ⊎ ((b == 10) ≡ true) → (is_letter b ≡ false) × (is_digit b ≡ false)
    by_case (inl e) = let f : b ≡ 32 = eqb-true b 32 e in (rw f refl, rw f refl)
    by_case (inr e) = let f : b ≡ 10 = eqb-true b 10 e in (rw f refl, rw f refl)

blank_shape : (alphabet : Alphabet) (b : ℕ) → is_blank b ≡ true → shape_of alphabet (b ∷ []) ≡ Some Gap
blank_shape alphabet b h = let p = blank_plain b h in rw (p.0, p.1, h) refl

pub and_false : (a : Bool) → (a && false) ≡ false
and_false true = refl
and_false false = refl

or_true : (a : Bool) → (a || true) ≡ true
or_true true = refl
or_true false = refl

closes_has : (bs : List ℕ) → has_close (bs ++ 42 ∷ 47 ∷ []) ≡ true
closes_has [] = refl
closes_has (b ∷ bs) = rw (closes_has bs) (or_true (starts_close (b ∷ bs ++ 42 ∷ 47 ∷ [])))

pub closes : (bs : List ℕ) → has_close (bs ++ 42 ∷ []) ≡ false → closes_at_end (bs ++ 42 ∷ 47 ∷ []) ≡ true
closes [] h = refl
closes (b ∷ []) h = rw and_false refl
closes (b ∷ c ∷ bs) h = let p = or_false (starts_close (b ∷ c ∷ (bs ++ 42 ∷ []))) (has_close (c ∷ bs ++ 42 ∷ [])) h in rw p.0 (closes (c ∷ bs) p.1)

stars_gap : (bs : List ℕ) → has_close (bs ++ 42 ∷ []) ≡ false → stars_shape (bs ++ 42 ∷ 47 ∷ []) ≡ Some Gap
stars_gap bs h = rw (closes_has bs, closes bs h) refl

-- ---- every element

pub shape_is : {alphabet : Alphabet} {shape : Shape} {bs : List ℕ} → IsElement alphabet shape bs → shape_of alphabet bs ≡ Some shape
shape_is (word {bs = bs} h a) = rw (h, all_bytes_of is_word_byte bs a) refl
shape_is {alphabet} (number {ds = ds} h) = decimal_shape alphabet ds h
shape_is {alphabet} (suffixed ds s cut h) = subst (λ x. shape_of alphabet x ≡ Some (Token kind.Number)) (sym cut) (suffixed_shape alphabet ds s h)
shape_is {alphabet} (single {b = b} h) = single_shape alphabet b h
shape_is {alphabet} (pair {b = b} {c = c} h) = pair_shape alphabet b c h
shape_is {alphabet} (blank {b = b} h) = blank_shape alphabet b h
shape_is (line {bs = bs} a) = rw (all_bytes_of is_no_line_feed bs a) refl
shape_is {alphabet} (stars inner cut h) = subst (λ x. shape_of alphabet (47 ∷ 42 ∷ x) ≡ Some Gap) (sym cut) (stars_gap inner h)
shape_is (unclosed h) = rw h refl
