-- The loop over tokens that ends at the first that is nested too deeply.
use Rattle.std.proofs.Common.{ℕ, suc, ◌+◌, ◌≡◌, ◌<◌, ◌≤◌, List, [], ◌∷◌, ◌++◌, length, drop, get_or, refl, sym, ◌∙◌, ap, subst, drop-cons, arith}
use Rattle.std.proofs.Math.Numerals.{add-one}
use Rattle.std.proofs.lemmas.List.{map-append, drop_all}
use Rattle.vd_grammar.specs.declared.fault.Cause.TheVariants as cause
use Rattle.vd_grammar.specs.SectionLaws.{Cutting, cutting_start, cutting_next, cutting_deep, cutting_text, cutting_unknown}
use Rattle.vd_section.specs.Place.{is_text, place_of_end}
use Rattle.vd_tokens.specs.declared.token.End.{End}
use Rattle.vd_tokens.specs.declared.token.End.TheVariants as last
use Rattle.vd_logic_grammar.specs.declared.depth.Depth.{Depth}
use Rattle.vd_logic_grammar.specs.declared.token.Token.{Token}
use Rattle.vd_logic_grammar.specs.Choice.{grammar}
use Rattle.vd_logic_grammar.specs.DepthView.{nested_of, IsCounted}
use Rattle.vd_logic_grammar.specs.Lexeme.{Lexeme, lexeme_of, lexemes_of}
use Rattle.vd_logic_grammar.specs.Nesting.{Nested, nesting, after}
use Rattle.vd_logic_grammar.specs.Tokens.{place, IsCut}

-- the tokens that are found so far, with what is counted behind them
abbrev Keeps : List Token → List Token → ℕ → Nested → Type 0
Keeps xs found n state = Cutting grammar nesting place (lexemes_of xs) (lexemes_of found) (lexemes_of (drop n xs)) state

-- the same of the code's count
pub record Kept (xs found : List Token) (n : ℕ) (depth : Depth) : Type 0 where
  pub keeps : Keeps xs found n (nested_of depth)
  pub counted : IsCounted depth
  pub shallow : depth.total + depth.operators < 256

pub kept_start : (xs : List Token) (depth : Depth) → nested_of depth ≡ nesting.start → IsCounted depth → Kept xs [] 0 depth
kept_start xs depth e c = record {
  keeps = subst (Keeps xs [] 0) (sym e) (cutting_start grammar nesting place (lexemes_of xs));
  counted = c;
  shallow = let below = (subst (Keeps xs [] 0) (sym e) (cutting_start grammar nesting place (lexemes_of xs))).below in rw c below;
}

at_next : (xs found : List Token) (n : ℕ) (state : Nested) (d : Token) → Keeps xs found n state → n < length xs
    → Cutting grammar nesting place (lexemes_of xs) (lexemes_of found) (lexeme_of (get_or xs n d) ∷ lexemes_of (drop (suc n) xs)) state
at_next xs found n state d k h = subst (λ y. Cutting grammar nesting place (lexemes_of xs) (lexemes_of found) y state) (ap lexemes_of (drop-cons xs n d h)) k

keeps_next : (xs found new : List Token) (n : ℕ) (state next : Nested) (d : Token) → Keeps xs found n state → n < length xs → next ≡ after (get_or xs n d).kind state
    → nesting.depth next < 256 → new ≡ found ++ get_or xs n d ∷ [] → Keeps xs new (n + 1) next
keeps_next xs found new n state next d k h g small pushed =
    let c = cutting_next grammar nesting place (lexemes_of xs) (lexemes_of found) (lexemes_of (drop (suc n) xs)) (lexeme_of (get_or xs n d)) state next (at_next xs found n state d k h) g small in
    rw (add-one, pushed, map-append) c

pub kept_next : (xs found new : List Token) (n : ℕ) (depth next : Depth) (d : Token) → Kept xs found n depth → n < length xs → nested_of next ≡ after (get_or xs n d).kind (nested_of depth)
    → IsCounted next → next.total + next.operators < 256 → new ≡ found ++ get_or xs n d ∷ [] → Kept xs new (n + 1) next
kept_next xs found new n depth next d k h g c small pushed = record {
  keeps = keeps_next xs found new n (nested_of depth) (nested_of next) d k.keeps h g (rw (sym c) small) pushed;
  counted = c;
  shallow = small;
}

pub kept_deep : (xs found : List Token) (n : ℕ) (depth next : Depth) (d : Token) (end : End) → Kept xs found n depth → n < length xs → nested_of next ≡ after (get_or xs n d).kind (nested_of depth)
    → IsCounted next → 256 ≤ next.total + next.operators → IsCut (lexemes_of xs) (is_text end) (place_of_end end) (lexemes_of found) cause.Deep (get_or xs n d).place
kept_deep xs found n depth next d end k h g c big =
    cutting_deep grammar nesting place (lexemes_of xs) (lexemes_of found) (lexemes_of (drop (suc n) xs)) (lexeme_of (get_or xs n d)) (nested_of depth) (nested_of next) (is_text end) (place_of_end end) (get_or xs n d).place
    (at_next xs found n (nested_of depth) d k.keeps h) g (rw (sym c) big) refl

none_left : (xs found : List Token) (n : ℕ) (depth : Depth) → Kept xs found n depth → length xs ≤ n → Cutting grammar nesting place (lexemes_of xs) (lexemes_of found) [] (nested_of depth)
none_left xs found n depth k h = rw (drop_all n xs h) at k.keeps

pub kept_text : (xs found : List Token) (n at : ℕ) (depth : Depth) (end : End) → Kept xs found n depth → length xs ≤ n → end ≡ last.Text at → IsCut (lexemes_of xs) (is_text end) (place_of_end end) (lexemes_of found) cause.Text at
kept_text xs found n at depth end k h e = rw e (cutting_text grammar nesting place (lexemes_of xs) (lexemes_of found) (nested_of depth) at (none_left xs found n depth k h))

pub kept_unknown : (xs found : List Token) (n at : ℕ) (depth : Depth) (end : End) → Kept xs found n depth → length xs ≤ n → end ≡ last.Unknown at → IsCut (lexemes_of xs) (is_text end) (place_of_end end) (lexemes_of found) cause.Unknown at
kept_unknown xs found n at depth end k h e = rw e (cutting_unknown grammar nesting place (lexemes_of xs) (lexemes_of found) (nested_of depth) at (none_left xs found n depth k h))
