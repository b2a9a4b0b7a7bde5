-- The header line and the line `end` of a printed section.
use Rattle.std.proofs.Common.{ℕ, suc, ◌+◌, ◌≡◌, Bool, true, false, ◌&&◌, List, [], ◌∷◌, ◌++◌, length, drop, codes, Some, refl, ◌∙◌, ap, arith, append_assoc}
use Rattle.std.specs.Prelude.{◌==◌, if◌then◌else◌, nat_le, option_map, not, slice_index}
use Rattle.std.specs.List.{list_all}
use Rattle.std.specs.Char.{is_ascii_digit}
use Rattle.std.proofs.lemmas.List.Sums.{take_while-cons}
use Rattle.std.proofs.Math.Seq.{drop-append_seam}
use Rattle.vd_base.specs.Name.{is_word_byte, is_name}
use Rattle.vd_tokens.specs.Bytes.{is_no_line_feed, AllBytes}
use Rattle.vd_tokens.specs.Shapes.{and_parts}
use Rattle.vd_cgrammar.specs.Words.{is_header_name}
use Rattle.vd_cparse.specs.HeaderLine.{found, missing, word_of, after_name, at_name, header_of, begins_end, end_at}

-- ---- the header line

word_stops : (name rest : List ℕ) → list_all is_word_byte name ≡ true → word_of (name ++ 10 ∷ rest) ≡ name
word_stops [] rest h = take_while-cons is_word_byte 10 rest
word_stops (b ∷ name) rest h =
    let s = and_parts (is_word_byte b) (list_all is_word_byte name) h in
    take_while-cons is_word_byte b (name ++ 10 ∷ rest) ∙ rw s.0 (ap (λ z. b ∷ z) (word_stops name rest s.1))

name_bytes : (name : List ℕ) → is_name name ≡ true → list_all is_word_byte name ≡ true
name_bytes name h =
    let start = not (is_ascii_digit (slice_index name 0)) in
    let a = and_parts (nat_le 1 (length name)) (nat_le (length name) 64 && (start && list_all is_word_byte name)) h in
    let b = and_parts (nat_le (length name) 64) (start && list_all is_word_byte name) a.1 in
    (and_parts start (list_all is_word_byte name) b.1).1

named_line : (name rest : List ℕ) → word_of (name ++ 10 ∷ rest) ≡ name → is_header_name name ≡ true → at_name 3 (name ++ 10 ∷ rest) ≡ found name (3 + length name + 1) rest
named_line name rest h g =
    ap (λ w. if is_header_name w then after_name (3 + length w) w (drop (length w) (name ++ 10 ∷ rest)) else missing 3 (name ++ 10 ∷ rest)) h
    ∙ (rw g (ap (after_name (3 + length name) name) (drop-append_seam name (10 ∷ rest))))

pub header_is : (name rest : List ℕ) → is_name name ≡ true → is_header_name name ≡ true → header_of (codes "fn") (codes "fn " ++ name ++ codes "\n" ++ rest) ≡ found name (3 + length name + 1) rest
header_is name rest h g =
    ap (λ z. header_of (codes "fn") (codes "fn " ++ z)) (append_assoc name (codes "\n") rest)
    ∙ named_line name rest (word_stops name rest (name_bytes name h)) g

-- ---- the line `end`

not_feed : (b : ℕ) → is_no_line_feed b ≡ true → (b == 10) ≡ false
not_feed b h = by_test (b == 10) h
  where
    by_test : (t : Bool) → not t ≡ true → t ≡ false
    by_test true g = cc
    by_test false g = refl

-- a line that is not looked at
line_ends : (line : List ℕ) → AllBytes is_no_line_feed line → end_at false (line ++ 10 ∷ codes "end\n") ≡ Some (length line + 1)
line_ends [] a = refl
line_ends (b ∷ line) a =
    ap (λ t. option_map suc (end_at t (line ++ 10 ∷ codes "end\n"))) (not_feed b a.0)
    ∙ (ap (option_map suc) (line_ends line a.1) ∙ ap Some (let h : suc (length line + 1) ≡ suc (length line) + 1 = omega arith in h))

-- what does not begin with an `e` is not the line `end`
no_end_line : (b : ℕ) (bs : List ℕ) → (b == 101) ≡ false → begins_end (b ∷ bs) ≡ false
no_end_line b bs h = rw h refl

pub end_is : (b : ℕ) (line : List ℕ) → (b == 101) ≡ false → AllBytes is_no_line_feed (b ∷ line) → end_at true (b ∷ line ++ 10 ∷ codes "end\n") ≡ Some (length (b ∷ line) + 1)
end_is b line h a =
    ap (λ t. if t then Some 0 else option_map suc (end_at (b == 10) (line ++ 10 ∷ codes "end\n"))) (no_end_line b (line ++ 10 ∷ codes "end\n") h) ∙ line_ends (b ∷ line) a
