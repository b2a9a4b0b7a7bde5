-- The name of a header line may stand in one.
use Rattle.std.specs.Prelude.{ℕ, ◌+◌, ◌≡◌, Bool, true, false, List, length, drop, if◌then◌else◌, refl}
use Rattle.std.proofs.Common.{sym, ◌∙◌, ap}
use Rattle.std.specs.Str.{bytes_eq}
use Rattle.std.specs.Cmp.Lexicographic.{same_text}
use Rattle.vd_section.specs.HeaderLine.{HeaderCut, found, missing, word_of, begins_with, name_in, after_name, at_name, after_word, header_by, named_header}

after_own : (n : ℕ) (name bs own : List ℕ) (m : ℕ) (body : List ℕ) → after_name n name bs ≡ found own m body → name ≡ own
after_own n name bs own m body h = by_test (begins_with 10 bs) h
  where
    by_test : (b : Bool) → (if b then found name (n + 1) (drop 1 bs) else missing n bs) ≡ found own m body → name ≡ own
    by_test true g = cc
    by_test false g = cc

at_own : (b : Bool) (n : ℕ) (bs own : List ℕ) (m : ℕ) (body : List ℕ) → at_name b n bs ≡ found own m body → (b ≡ true) × (word_of bs ≡ own)
at_own true n bs own m body h = (refl, after_own (n + length (word_of bs)) (word_of bs) (drop (length (word_of bs)) bs) own m body h)
at_own false n bs own m body h = cc

word_own : (b : Bool) (n : ℕ) (bs own : List ℕ) (m : ℕ) (body : List ℕ) → after_word b n bs ≡ found own m body → (b ≡ true) × (word_of (drop 1 bs) ≡ own)
word_own b n bs own m body h = by_test (begins_with 32 bs) h
  where
    by_test : (s : Bool) → (if s then at_name b (n + 1) (drop 1 bs) else missing n bs) ≡ found own m body → (b ≡ true) × (word_of (drop 1 bs) ≡ own)
    by_test true g = at_own b (n + 1) (drop 1 bs) own m body g
    by_test false g = cc

header_own : (b : Bool) (kind text own : List ℕ) (m : ℕ) (body : List ℕ) → header_by b kind text ≡ found own m body → (b ≡ true) × (name_in text ≡ own)
header_own b kind text own m body h = by_test (bytes_eq (word_of text) kind) refl h
  where
    by_test : (s : Bool) → bytes_eq (word_of text) kind ≡ s → (if s then after_word b (length kind) (drop (length kind) text) else missing 0 text) ≡ found own m body → (b ≡ true) × (name_in text ≡ own)
    by_test true e g =
        let x = word_own b (length kind) (drop (length kind) text) own m body g in
        (x.0, ap (λ w. word_of (drop 1 (drop (length w) text))) (same_text (word_of text) kind (sym e)) ∙ x.1)
    by_test false e g = cc

pub named_own : (may_stand : List ℕ → Bool) (kind text own : List ℕ) (m : ℕ) (body : List ℕ) → named_header may_stand kind text ≡ found own m body → may_stand own ≡ true
named_own may_stand kind text own m body h =
    let x = header_own (may_stand (name_in text)) kind text own m body h in
    ap may_stand (sym x.1) ∙ x.0
