-- Bytes up to a separator, and lines that lack one.
use Rattle.std.proofs.Common.{◌≡◌, ℕ, ◌==◌, ◌&&◌, Bool, true, false, not, List, [], ◌∷◌, ◌++◌, length, nat_le, slice_index, refl, ap, ◌∙◌, inl, inr}
use Rattle.std.specs.Char.{is_ascii_digit}
use Rattle.std.specs.List.{list_all}
use Rattle.std.proofs.lemmas.Bool.Decides.{eqb_tells}
use Rattle.vd_base.specs.Name.{is_word_byte, is_name}
use Rattle.vd_outline.specs.Lines.{lacks, is_line, is_line_byte}

pub and-true-left : (a b : Bool) → a && b ≡ true → a ≡ true
and-true-left true b h = refl
and-true-left false b h = h

pub and-true-right : (a b : Bool) → a && b ≡ true → b ≡ true
and-true-right true b h = h
and-true-right false b h = cc

pub both_true : (a b : Bool) → a ≡ true → b ≡ true → a && b ≡ true
both_true true b p q = q
both_true false b p q = p

-- what holds of each byte by one test holds by a weaker one
pub list_all-weaker : (p q : ℕ → Bool) → ((b : ℕ) → p b ≡ true → q b ≡ true) → (bytes : List ℕ) → list_all p bytes ≡ true → list_all q bytes ≡ true
list_all-weaker p q f [] h = refl
list_all-weaker p q f (b ∷ bytes) h = both_true (q b) (list_all q bytes) (f b (and-true-left _ _ h)) (list_all-weaker p q f bytes (and-true-right _ _ h))

-- a byte that passes where another does not is not that one
pub differs : (p : ℕ → Bool) (byte b : ℕ) → p byte ≡ false → p b ≡ true → not (b == byte) ≡ true
differs p byte b fails passes = elim (eqb_tells b byte) [
  | inl e ↦ let one : p b ≡ false = ap p e.1 ∙ fails in absurd (cc)
  | inr e ↦ ap not e.0
]

pub lacks-line : (line : List ℕ) → is_line line ≡ true → lacks 10 line ≡ true
lacks-line line h = list_all-weaker is_line_byte (λ b. not (b == 10)) (λ b. differs is_line_byte 10 b refl) line h

pub words_of_name : (name : List ℕ) → is_name name ≡ true → list_all is_word_byte name ≡ true
words_of_name name h =
    let first : Bool = not (is_ascii_digit (slice_index name 0)) in
    let bytes : Bool = list_all is_word_byte name in
    let short : Bool = nat_le (length name) 64 in
    and-true-right first bytes (and-true-right short (first && bytes) (and-true-right (nat_le 1 (length name)) (short && (first && bytes)) h))

-- a word lacks a byte that is of no word
pub lacks-word : (byte : ℕ) (word : List ℕ) → is_word_byte byte ≡ false → list_all is_word_byte word ≡ true → lacks byte word ≡ true
lacks-word byte word other h = list_all-weaker is_word_byte (λ b. not (b == byte)) (λ b. differs is_word_byte byte b other) word h

pub lacks_head : (byte b : ℕ) (bytes : List ℕ) → lacks byte (b ∷ bytes) ≡ true → b ≡ byte → ⊥
lacks_head byte b bytes h e =
    let one : not (b == byte) ≡ true = and-true-left _ _ h in
    elim (eqb_tells b byte) [
      | inl t ↦ let two : not (b == byte) ≡ false = ap not t.0 in cc
      | inr t ↦ t.1 e
    ]

pub lacks_rest : (byte b : ℕ) (bytes : List ℕ) → lacks byte (b ∷ bytes) ≡ true → lacks byte bytes ≡ true
lacks_rest byte b bytes h = and-true-right _ _ h

pub lacks-append : (byte : ℕ) (xs ys : List ℕ) → lacks byte xs ≡ true → lacks byte ys ≡ true → lacks byte (xs ++ ys) ≡ true
lacks-append byte [] ys p q = q
lacks-append byte (x ∷ xs) ys p q = both_true (not (x == byte)) (lacks byte (xs ++ ys)) (and-true-left _ _ p) (lacks-append byte xs ys (and-true-right _ _ p) q)

-- bytes that lack the separator are not cut
pub uncut : (byte : ℕ) (bytes front rest : List ℕ) → lacks byte bytes ≡ true → bytes ≡ front ++ byte ∷ rest → ⊥
uncut byte [] [] rest h e = cc
uncut byte [] (x ∷ front) rest h e = cc
uncut byte (b ∷ bytes) [] rest h e = lacks_head byte b bytes h (cc)
uncut byte (b ∷ bytes) (x ∷ front) rest h e = uncut byte bytes front rest (lacks_rest byte b bytes h) (cc)

-- bytes are cut in one way
pub cut_unique : (byte : ℕ) (front rest front' rest' : List ℕ) → lacks byte front ≡ true → lacks byte front' ≡ true
    → front ++ byte ∷ rest ≡ front' ++ byte ∷ rest' → (front ≡ front') × (rest ≡ rest')
cut_unique byte [] rest [] rest' p q e = (refl, cc)
cut_unique byte [] rest (y ∷ front') rest' p q e = absurd (lacks_head byte y front' q (cc))
cut_unique byte (x ∷ front) rest [] rest' p q e = absurd (lacks_head byte x front p (cc))
cut_unique byte (x ∷ front) rest (y ∷ front') rest' p q e =
    let heads : x ≡ y = cc in
    let tails : front ++ byte ∷ rest ≡ front' ++ byte ∷ rest' = cc in
    let ih = cut_unique byte front rest front' rest' (lacks_rest byte x front p) (lacks_rest byte y front' q) tails in
    let same : front ≡ front' = ih.0 in
    (cc, ih.1)
