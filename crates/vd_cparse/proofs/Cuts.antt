-- The loops over the tokens of a text, and what its tokens answer.
use Rattle.std.proofs.Common.{ℕ, suc, ◌+◌, ◌≡◌, ◌<◌, ◌≤◌, true, List, [], ◌∷◌, ◌++◌, length, take, drop, get_or, Some, None, refl, sym, ◌∙◌, ap, subst, drop-cons, append_assoc}
use Rattle.std.proofs.Math.Numerals.{add-one}
use Rattle.std.proofs.lemmas.List.{map-append, drop_all, append-nil}
use Rattle.vd_grammar.specs.declared.fault.Cause.TheVariants as cause
use Rattle.vd_grammar.specs.SectionLaws.{Cutting, cutting_start, cutting_next, cutting_deep, cutting_text, cutting_unknown}
use Rattle.vd_tokens.specs.declared.alphabet.Alphabet.{Alphabet}
use Rattle.vd_tokens.specs.declared.token.Token.{Token as Plain}
use Rattle.vd_tokens.specs.declared.token.End.{End}
use Rattle.vd_tokens.specs.declared.token.End.TheVariants as last
use Rattle.vd_tokens.specs.Lexeme as plain
use Rattle.vd_cgrammar.specs.declared.depth.Depth.{Depth}
use Rattle.vd_cgrammar.specs.declared.token.Token.{Token}
use Rattle.vd_cgrammar.specs.Lexeme.{Lexeme, lexeme_of, lexemes_of}
use Rattle.vd_cgrammar.specs.Grammar.{grammar}
use Rattle.vd_cparse.specs.HeaderLine.{end_at}
use Rattle.vd_cgrammar.specs.Nesting.{nesting, after}
use Rattle.vd_cgrammar.specs.Words.{lexeme_in, lexemes_in}
use Rattle.vd_cgrammar.specs.Tokens.{place, IsCut}
use Rattle.vd_cparse.specs.Section.{is_text, place_of_end, Lexes, Continued, HasTokens}

-- ---- the kinds of tokens

pub known_next : (own : List ℕ) (xs : List Plain) (found new : List Token) (base : List Lexeme) (i : ℕ) (d : Plain) (t : Token)
    → lexemes_of found ++ lexemes_in own (plain.lexemes_of (drop i xs)) ≡ base → i < length xs → lexeme_of t ≡ lexeme_in own (plain.lexeme_of (get_or xs i d)) → new ≡ found ++ t ∷ []
    → lexemes_of new ++ lexemes_in own (plain.lexemes_of (drop (i + 1) xs)) ≡ base
known_next own xs found new base i d t k h e pushed =
    let left = lexemes_in own (plain.lexemes_of (drop (suc i) xs)) in
    let next : lexemes_in own (plain.lexemes_of (drop i xs)) ≡ lexeme_of t ∷ left = ap (λ x. lexemes_in own (plain.lexemes_of x)) (drop-cons xs i d h) ∙ ap (λ y. y ∷ left) (sym e) in
    let grown : lexemes_of new ≡ lexemes_of found ++ lexeme_of t ∷ [] = ap lexemes_of pushed ∙ map-append lexeme_of found (t ∷ []) in
    rw (add-one, grown) (append_assoc (lexemes_of found) (lexeme_of t ∷ []) left ∙ (ap (λ y. lexemes_of found ++ y) (sym next) ∙ k))

pub known_all : (own : List ℕ) (xs : List Plain) (found : List Token) (base : List Lexeme) (i : ℕ)
    → lexemes_of found ++ lexemes_in own (plain.lexemes_of (drop i xs)) ≡ base → length xs ≤ i → lexemes_of found ≡ base
known_all own xs found base i k h = sym (append-nil (lexemes_of found)) ∙ (ap (λ x. lexemes_of found ++ lexemes_in own (plain.lexemes_of x)) (sym (drop_all i xs h)) ∙ k)

-- ---- the tokens of a section

pub open_tokens : (alphabet : Alphabet) (own : List ℕ) (place : ℕ) (body : List ℕ) (ts : List Lexeme) (end : End) → end_at true body ≡ None → Lexes alphabet own place body ts end → HasTokens alphabet own place body ts end
open_tokens alphabet own place body ts end h x = rw h x

pub unknown_tokens : (alphabet : Alphabet) (own : List ℕ) (place n at : ℕ) (body : List ℕ) (ts : List Lexeme) (end : End) → end_at true body ≡ Some n → Lexes alphabet own place (take n body) ts end → end ≡ last.Unknown at → HasTokens alphabet own place body ts end
unknown_tokens alphabet own place n at body ts end h x e = rw h (record { front = ts; middle = last.Unknown at; content = subst (Lexes alphabet own place (take n body) ts) e x; behind = (refl, e) })

pub closed_tokens : (alphabet : Alphabet) (own : List ℕ) (place n at : ℕ) (body : List ℕ) (front ts : List Lexeme) (middle end : End) → end_at true body ≡ Some n → Lexes alphabet own place (take n body) front middle → middle ≡ last.Text at
    → Continued alphabet own (place + n) (drop (n + 4) body) front ts end → HasTokens alphabet own place body ts end
closed_tokens alphabet own place n at body front ts middle end h x e c = rw h (record { front = front; middle = last.Text at; content = subst (Lexes alphabet own place (take n body) front) e x; behind = c })

-- ---- the tokens up to the first that is nested too deeply

abbrev pub Kept : List Token → List Token → ℕ → Depth → Type 0
Kept xs found i depth = Cutting grammar nesting place (lexemes_of xs) (lexemes_of found) (lexemes_of (drop i xs)) depth

pub kept_start : (xs : List Token) → Kept xs [] 0 nesting.start
kept_start xs = cutting_start grammar nesting place (lexemes_of xs)

at_next : (xs found : List Token) (i : ℕ) (depth : Depth) (d : Token) → Kept xs found i depth → i < length xs
    → Cutting grammar nesting place (lexemes_of xs) (lexemes_of found) (lexeme_of (get_or xs i d) ∷ lexemes_of (drop (suc i) xs)) depth
at_next xs found i depth d k h = subst (λ y. Cutting grammar nesting place (lexemes_of xs) (lexemes_of found) y depth) (ap lexemes_of (drop-cons xs i d h)) k

pub kept_next : (xs found new : List Token) (i : ℕ) (depth next : Depth) (d : Token) → Kept xs found i depth → i < length xs → next ≡ after (get_or xs i d).kind depth
    → next.brackets + next.operators < 256 → new ≡ found ++ get_or xs i d ∷ [] → Kept xs new (i + 1) next
kept_next xs found new i depth next d k h g small pushed =
    let c = cutting_next grammar nesting place (lexemes_of xs) (lexemes_of found) (lexemes_of (drop (suc i) xs)) (lexeme_of (get_or xs i d)) depth next (at_next xs found i depth d k h) g small in
    rw (add-one, pushed, map-append) c

pub kept_deep : (xs found : List Token) (i : ℕ) (depth next : Depth) (d : Token) (end : End) → Kept xs found i depth → i < length xs → next ≡ after (get_or xs i d).kind depth
    → 256 ≤ next.brackets + next.operators → IsCut (lexemes_of xs) (is_text end) (place_of_end end) (lexemes_of found) cause.Deep (get_or xs i d).place
kept_deep xs found i depth next d end k h g big =
    cutting_deep grammar nesting place (lexemes_of xs) (lexemes_of found) (lexemes_of (drop (suc i) xs)) (lexeme_of (get_or xs i d)) depth next (is_text end) (place_of_end end) (get_or xs i d).place (at_next xs found i depth d k h) g big refl

none_left : (xs found : List Token) (i : ℕ) (depth : Depth) → Kept xs found i depth → length xs ≤ i → Cutting grammar nesting place (lexemes_of xs) (lexemes_of found) [] depth
none_left xs found i depth k h = rw (drop_all i xs h) at k

pub kept_text : (xs found : List Token) (i at : ℕ) (depth : Depth) (end : End) → Kept xs found i depth → length xs ≤ i → end ≡ last.Text at → IsCut (lexemes_of xs) (is_text end) (place_of_end end) (lexemes_of found) cause.Text at
kept_text xs found i at depth end k h e = rw e (cutting_text grammar nesting place (lexemes_of xs) (lexemes_of found) depth at (none_left xs found i depth k h))

pub kept_unknown : (xs found : List Token) (i at : ℕ) (depth : Depth) (end : End) → Kept xs found i depth → length xs ≤ i → end ≡ last.Unknown at → IsCut (lexemes_of xs) (is_text end) (place_of_end end) (lexemes_of found) cause.Unknown at
kept_unknown xs found i at depth end k h e = rw e (cutting_unknown grammar nesting place (lexemes_of xs) (lexemes_of found) depth at (none_left xs found i depth k h))
