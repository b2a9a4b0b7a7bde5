-- What the loop over a text keeps.
use Rattle.std.proofs.Common.{ℕ, suc, length-drop, ◌+◌, ◌≡◌, ◌<◌, ◌≤◌, List, [], ◌∷◌, ◌++◌, length, take, drop, get_or, refl, sym, ◌∙◌, ap, subst, arith, append_assoc}
use Rattle.std.proofs.Math.Numerals.{add-one}
use Rattle.std.proofs.lemmas.List.{append-nil, length-take-le, map-append}
use Rattle.vd_tokens.specs.declared.alphabet.Alphabet.{Alphabet}
use Rattle.vd_tokens.specs.declared.token.TokenKind.{TokenKind}
use Rattle.vd_tokens.specs.declared.token.Token.{Token as CodeToken}
use Rattle.vd_tokens.specs.declared.token.End.{End}
use Rattle.vd_tokens.specs.declared.token.End.TheVariants as end
use Rattle.vd_tokens.specs.declared.element.Element.TheVariants as element
use Rattle.vd_tokens.specs.Lexeme.{Lexeme, lexeme_of, lexemes_of}
use Rattle.vd_tokens.specs.Text.{Tokenizes, ends, nothing_begins, nothing_closes, behind_gap, token}
use Rattle.vd_tokens.specs.Head.{BeginsNone, nothing, open_comment, IsHead}

-- The tokens of what is left stand behind those that were found.
pub record Scanned (alphabet : Alphabet) (place at : ℕ) (text left : List ℕ) (found : List Lexeme) : Type 0 where
  pub lift : (ts : List Lexeme) (last : End) → Tokenizes alphabet at left ts last → Tokenizes alphabet place text (found ++ ts) last
  pub ends : at + length left ≡ place + length text

pub scanned_start : (alphabet : Alphabet) (place : ℕ) (text : List ℕ) → Scanned alphabet place place text text []
scanned_start alphabet place text = record { lift = λ ts last d. d; ends = refl }

front_length : (at b n next : ℕ) (rest : List ℕ) → n ≤ length rest → next ≡ at + (n + 1) → next ≡ at + length (b ∷ take n rest)
front_length at b n next rest w e = omega (arith, length-take-le n rest w)

-- the first byte of what is left, and the others
first_of : (left rest : List ℕ) → 0 < length left → rest ≡ drop 1 left → get_or left 0 0 ∷ rest ≡ left
first_of [] rest h e = absurd (omega arith)
first_of (b ∷ left) rest h e = ap (λ x. b ∷ x) e

left_length : (left rest behind : List ℕ) (n : ℕ) → 0 < length left → rest ≡ drop 1 left → n ≤ length rest → behind ≡ drop n rest → length behind + (n + 1) ≡ length left
left_length left rest behind n h r w e = omega (arith, ap length (first_of left rest h r), ap length e, length-drop n rest)

pub scanned_gap : (alphabet : Alphabet) (place at n : ℕ) (text left rest behind : List ℕ) (found : List Lexeme) → Scanned alphabet place at text left found → 0 < length left → rest ≡ drop 1 left
    → IsHead alphabet (get_or left 0 0) rest (element.Gap n) → n ≤ length rest → behind ≡ drop n rest → Scanned alphabet place (at + (n + 1)) text behind found
scanned_gap alphabet place at n text left rest behind found s h r head w e = record {
  lift = λ ts last d. s.lift ts last (subst (λ x. Tokenizes alphabet at x ts last) (first_of left rest h r)
      (behind_gap head (subst (λ m. Tokenizes alphabet m (drop n rest) ts last) (front_length at (get_or left 0 0) n (at + (n + 1)) rest w refl) (subst (λ x. Tokenizes alphabet (at + (n + 1)) x ts last) e d))));
  ends = let g = s.ends in omega (arith, left_length left rest behind n h r w e);
}

front_spelled : (left rest spelling : List ℕ) (n : ℕ) → 0 < length left → rest ≡ drop 1 left → spelling ≡ take (n + 1) left → get_or left 0 0 ∷ take n rest ≡ spelling
front_spelled left rest spelling n h r e = ap (take (suc n)) (first_of left rest h r) ∙ (ap (λ m. take m left) (sym (add-one n)) ∙ sym e)

behind_is : (left rest behind : List ℕ) (n : ℕ) → 0 < length left → rest ≡ drop 1 left → behind ≡ drop (n + 1) left → behind ≡ drop n rest
behind_is left rest behind n h r e = e ∙ (ap (λ m. drop m left) (add-one n) ∙ ap (drop (suc n)) (sym (first_of left rest h r)))

pub scanned_token : (alphabet : Alphabet) (place at n : ℕ) (kind : TokenKind) (text left rest behind spelling : List ℕ) (found : List Lexeme) → Scanned alphabet place at text left found → 0 < length left → rest ≡ drop 1 left
    → IsHead alphabet (get_or left 0 0) rest (element.Token kind n) → n ≤ length rest → behind ≡ drop (n + 1) left → spelling ≡ take (n + 1) left
    → Scanned alphabet place (at + (n + 1)) text behind (found ++ record { kind = kind; place = at; spelling = spelling } ∷ [])
scanned_token alphabet place at n kind text left rest behind spelling found s h r head w e spelled =
    let b = get_or left 0 0 in
    let t : Lexeme = record { kind = kind; place = at; spelling = b ∷ take n rest } in
    let e' = behind_is left rest behind n h r e in
    subst (λ x. Scanned alphabet place (at + (n + 1)) text behind (found ++ record { kind = kind; place = at; spelling = x } ∷ [])) (front_spelled left rest spelling n h r spelled) (record {
      lift = λ ts last d. subst (λ x. Tokenizes alphabet place text x last) (sym (append_assoc found (t ∷ []) ts))
          (s.lift (t ∷ ts) last (subst (λ x. Tokenizes alphabet at x (t ∷ ts) last) (first_of left rest h r)
          (token head (subst (λ m. Tokenizes alphabet m (drop n rest) ts last) (front_length at b n (at + (n + 1)) rest w refl) (subst (λ x. Tokenizes alphabet (at + (n + 1)) x ts last) e' d)))));
      ends = let g = s.ends in omega (arith, left_length left rest behind n h r w e');
    })

none_begins : (alphabet : Alphabet) (at b : ℕ) (rest : List ℕ) → BeginsNone alphabet (b ∷ rest) → Tokenizes alphabet at (b ∷ rest) [] (end.Unknown at)
none_begins alphabet at b rest (nothing h) = nothing_begins h
none_begins alphabet at b rest (open_comment front behind h) = nothing_closes h

pub scanned_unknown : (alphabet : Alphabet) (place at : ℕ) (text left rest : List ℕ) (found : List Lexeme) → Scanned alphabet place at text left found → 0 < length left → rest ≡ drop 1 left
    → IsHead alphabet (get_or left 0 0) rest element.Unknown → Tokenizes alphabet place text found (end.Unknown at)
scanned_unknown alphabet place at text left rest found s h r head =
    subst (λ x. Tokenizes alphabet place text x (end.Unknown at)) (append-nil found)
    (s.lift [] (end.Unknown at) (subst (λ x. Tokenizes alphabet at x [] (end.Unknown at)) (first_of left rest h r) (none_begins alphabet at (get_or left 0 0) rest head)))

no_byte : (left : List ℕ) → length left ≡ 0 → [] ≡ left
no_byte [] h = refl
no_byte (b ∷ left) h = cc

pub scanned_end : (alphabet : Alphabet) (place at : ℕ) (text left : List ℕ) (found : List Lexeme) → Scanned alphabet place at text left found → length left ≡ 0 → Tokenizes alphabet place text found (end.Text at)
scanned_end alphabet place at text left found s h =
    subst (λ x. Tokenizes alphabet place text x (end.Text at)) (append-nil found) (s.lift [] (end.Text at) (subst (λ x. Tokenizes alphabet at x [] (end.Text at)) (no_byte left h) ends))

pub pushed : (old new : List CodeToken) (t : CodeToken) (m : Lexeme) → new ≡ old ++ t ∷ [] → lexeme_of t ≡ m → lexemes_of new ≡ lexemes_of old ++ m ∷ []
pushed old new t m h e = ap lexemes_of h ∙ (map-append lexeme_of old (t ∷ []) ∙ ap (λ x. lexemes_of old ++ x ∷ []) e)
