-- A text has one head line.
use Rattle.std.proofs.Common.{◌≡◌, ℕ, Bool, true, ◌&&◌, not, ◌==◌, List, [], ◌∷◌, ◌++◌, length, nat_le, slice_index, refl, ap, sym, ◌∙◌, arith}
use Rattle.std.specs.Char.{is_ascii_digit}
use Rattle.std.specs.List.{list_all}
use Rattle.vd_base.specs.Name.{is_name, is_word_byte}
use Rattle.vd_outline.specs.declared.outline.TextKind.{TextKind}
use Rattle.vd_outline.specs.declared.outline.TextKind.TheVariants as kind
use Rattle.vd_outline.specs.Outline.{HasHead, head_line, kind_word}
use Rattle.vd_commands.proofs.Words.{both_left, both_right}

-- no byte is a line feed
IsOneLine : List ℕ → Type 0
IsOneLine [] = Unit {0}
IsOneLine (b ∷ bs) = (b ≡ 10 → ⊥) × IsOneLine bs

name_line : (bs : List ℕ) → list_all is_word_byte bs ≡ true → IsOneLine bs
unfolding IsOneLine
name_line [] all = tt
name_line (b ∷ bs) all = (
  λ e.
      let here : is_word_byte 10 ≡ true = ap is_word_byte (sym e) ∙ both_left (is_word_byte b) (list_all is_word_byte bs) all in
      cc,
  name_line bs (both_right (is_word_byte b) (list_all is_word_byte bs) all),
)

-- the first line ends at the first line feed
one_cut : (xs ys r s : List ℕ) → IsOneLine xs → IsOneLine ys → xs ++ 10 ∷ r ≡ ys ++ 10 ∷ s → xs ≡ ys
unfolding IsOneLine
one_cut [] [] r s p q e = refl
one_cut [] (y ∷ ys) r s p q e = let at : y ≡ 10 = cc in absurd (q.0 at)
one_cut (x ∷ xs) [] r s p q e = let at : x ≡ 10 = cc in absurd (p.0 at)
one_cut (x ∷ xs) (y ∷ ys) r s p q e =
    let heads : x ≡ y = cc in
    let tails : xs ++ 10 ∷ r ≡ ys ++ 10 ∷ s = cc in
    let rest : xs ≡ ys = one_cut xs ys r s p.1 q.1 tails in
    cc

line_of : (bs : List ℕ) → list_all (λ b. not (b == 10)) bs ≡ true → IsOneLine bs
unfolding IsOneLine
line_of [] all = tt
line_of (b ∷ bs) all = (
  λ e.
      let here : not (10 == 10) ≡ true = ap (λ x. not (x == 10)) (sym e) ∙ both_left (not (b == 10)) (list_all (λ b. not (b == 10)) bs) all in
      cc,
  line_of bs (both_right (not (b == 10)) (list_all (λ b. not (b == 10)) bs) all),
)

line_more : (xs ys : List ℕ) → IsOneLine xs → IsOneLine ys → IsOneLine (xs ++ ys)
unfolding IsOneLine
line_more [] ys p q = q
line_more (x ∷ xs) ys p q = (p.0, line_more xs ys p.1 q)

spaced_line : (name : List ℕ) → IsOneLine name → IsOneLine (32 ∷ name)
unfolding IsOneLine
spaced_line name h = (λ e. absurd (omega arith), h)

head_is_line : (k : TextKind) (name : List ℕ) → IsOneLine name → IsOneLine (head_line k name)
head_is_line kind.Interface name h = line_more (kind_word kind.Interface) (32 ∷ name) (line_of (kind_word kind.Interface) refl) (spaced_line name h)
head_is_line kind.Unit name h = line_more (kind_word kind.Unit) (32 ∷ name) (line_of (kind_word kind.Unit) refl) (spaced_line name h)
head_is_line kind.Link name h = line_more (kind_word kind.Link) (32 ∷ name) (line_of (kind_word kind.Link) refl) (spaced_line name h)

abbrev first_of : List ℕ → ℕ
first_of [] = 0
first_of (b ∷ bs) = b

same_name : (k l : TextKind) (m n : List ℕ) → head_line k m ≡ head_line l n → m ≡ n
same_name kind.Interface kind.Interface m n e = cc
same_name kind.Interface kind.Unit m n e = absurd (omega (arith, ap first_of e))
same_name kind.Interface kind.Link m n e = absurd (omega (arith, ap first_of e))
same_name kind.Unit kind.Interface m n e = absurd (omega (arith, ap first_of e))
same_name kind.Unit kind.Unit m n e = cc
same_name kind.Unit kind.Link m n e = absurd (omega (arith, ap first_of e))
same_name kind.Link kind.Interface m n e = absurd (omega (arith, ap first_of e))
same_name kind.Link kind.Unit m n e = absurd (omega (arith, ap first_of e))
same_name kind.Link kind.Link m n e = cc

all_word_bytes : (name : List ℕ) → is_name name ≡ true → list_all is_word_byte name ≡ true
all_word_bytes name h =
    let begun : Bool = not (is_ascii_digit (slice_index name 0)) in
    let short : Bool = nat_le (length name) 64 in
    both_right begun (list_all is_word_byte name) (both_right short (begun && list_all is_word_byte name) (both_right (nat_le 1 (length name)) (short && (begun && list_all is_word_byte name)) h))

-- a text has one name
pub one_name : (text : List ℕ) (k l : TextKind) (m n : List ℕ) → HasHead text k m → HasHead text l n → m ≡ n
one_name text k l m n p q =
    let first : IsOneLine (head_line k m) = head_is_line k m (name_line m (all_word_bytes m p.named)) in
    let second : IsOneLine (head_line l n) = head_is_line l n (name_line n (all_word_bytes n q.named)) in
    same_name k l m n (one_cut (head_line k m) (head_line l n) p.rest q.rest first second (sym p.cut ∙ q.cut))
