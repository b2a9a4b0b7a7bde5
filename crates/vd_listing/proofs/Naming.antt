-- Names in front of what follows.
use Rattle.std.proofs.Common.{◌≡◌, ◌++◌, ◌∷◌, ◌+◌, ◌<◌, ◌∙◌, ap, sym, refl, ℕ, Bool, true, false, if◌then◌else◌, List, [], length, drop, Result, Ok, Err}
use Rattle.std.proofs.Math.ListN.{get_or}
use Rattle.std.proofs.lemmas.List.{drop_more}
use Rattle.vd_heads.specs.declared.content.Mention.{Mention}
use Rattle.vd_tokens.specs.declared.token.End.{End}
use Rattle.vd_tokens.specs.declared.token.End.TheVariants as last
use Rattle.vd_tokens.specs.declared.token.Token.{Token}
use Rattle.vd_tokens.specs.Lexeme.{lexeme_of, lexemes_of}
use Rattle.vd_listing.specs.declared.reading.Stopped.{Stopped}
use Rattle.vd_listing.specs.declared.reading.Stopped.TheVariants as stopped
use Rattle.vd_listing.specs.Listing.{with_name, with_names, listed, is_name_token, is_comma, mention_of, ending}

abbrev Found : Type 0
Found = Result (List Mention) ℕ

-- a place in a refusal
pub same_place : {T : Type 0} (a b : ℕ) → ◌≡◌ {A = Result T Stopped} (Err (stopped.At a)) (Err (stopped.At b)) → a ≡ b
same_place a b h = cc

-- one refusal, of whatever was asked
pub same_refusal : {T U : Type 0} (e f : Stopped) → ◌≡◌ {A = Result T Stopped} (Err e) (Err f) → ◌≡◌ {A = Result U Stopped} (Err e) (Err f)
same_refusal e f h = let same : e ≡ f = cc in ap Err same

-- one more name
with_one_more : (ms : List Mention) (m : Mention) (r : Found) → with_names (ms ++ m ∷ []) r ≡ with_names ms (with_name m r)
with_one_more [] m r = refl
with_one_more (n ∷ ns) m r = ap (with_name n) (with_one_more ns m r)

-- a fault behind names is that of all
pub with_fault : (ms : List Mention) (place : ℕ) → with_names ms (Err place) ≡ Err place
with_fault [] place = refl
with_fault (n ∷ ns) place = ap (with_name n) (with_fault ns place)

-- names alone
pub with_none : (ms : List Mention) → with_names ms (Ok []) ≡ Ok ms
with_none [] = refl
with_none (n ∷ ns) = ap (with_name n) (with_none ns)

chosen : (b : Bool) (x y : Found) → b ≡ true → (if b then x else y) ≡ x
chosen true x y h = refl
chosen false x y h = absurd (cc)

other : (b : Bool) (x y : Found) → b ≡ false → (if b then x else y) ≡ y
other true x y h = absurd (cc)
other false x y h = refl

module _ (ts : List Token) (i : ℕ) (d : Token) (within : i < length ts) (ms : List Mention) (whole : End → Found) where
  abbrev rest : List Token
  rest = drop (i + 1) ts

  abbrev token : Token
  token = get_or ts i d

  front : (wants : Bool) (end : End) → with_names ms (listed wants (lexemes_of (drop i ts)) end) ≡ with_names ms (listed wants (lexeme_of token ∷ lexemes_of rest) end)
  front wants end = ap (λ xs. with_names ms (listed wants (lexemes_of xs) end)) (drop_more ts i d within)

  named : (m : Mention) → is_name_token (lexeme_of token) ≡ true → m ≡ mention_of (lexeme_of token) → ((end : End) → whole end ≡ with_names ms (listed true (lexemes_of (drop i ts)) end))
      → (end : End) → whole end ≡ with_names (ms ++ m ∷ []) (listed false (lexemes_of rest) end)
  named m is e so end = so end ∙ (front true end
      ∙ (ap (with_names ms) (chosen (is_name_token (lexeme_of token)) (with_name (mention_of (lexeme_of token)) (listed false (lexemes_of rest) end)) (Err token.place) is)
      ∙ (ap (λ (k : Mention). with_names ms (with_name k (listed false (lexemes_of rest) end))) (sym e) ∙ sym (with_one_more ms m (listed false (lexemes_of rest) end)))))

  parted : is_comma (lexeme_of token) ≡ true → ((end : End) → whole end ≡ with_names ms (listed false (lexemes_of (drop i ts)) end))
      → (end : End) → whole end ≡ with_names ms (listed true (lexemes_of rest) end)
  parted is so end = so end ∙ (front false end ∙ ap (with_names ms) (chosen (is_comma (lexeme_of token)) (listed true (lexemes_of rest) end) (Err token.place) is))

  no_name : is_name_token (lexeme_of token) ≡ false → ((end : End) → whole end ≡ with_names ms (listed true (lexemes_of (drop i ts)) end)) → (end : End) → whole end ≡ Err token.place
  no_name is so end = so end ∙ (front true end
      ∙ (ap (with_names ms) (other (is_name_token (lexeme_of token)) (with_name (mention_of (lexeme_of token)) (listed false (lexemes_of rest) end)) (Err token.place) is) ∙ with_fault ms token.place))

  no_comma : is_comma (lexeme_of token) ≡ false → ((end : End) → whole end ≡ with_names ms (listed false (lexemes_of (drop i ts)) end)) → (end : End) → whole end ≡ Err token.place
  no_comma is so end = so end ∙ (front false end ∙ (ap (with_names ms) (other (is_comma (lexeme_of token)) (listed true (lexemes_of rest) end) (Err token.place) is) ∙ with_fault ms token.place))

  -- what the tokens left say, behind the names found
  abbrev pub Said : Bool → List Mention → List Token → Type 0
  Said wants names left = (end : End) → whole end ≡ with_names names (listed wants (lexemes_of left) end)

  pub name_read : (m : Mention) (names : List Mention) (wants now : Bool) → wants ≡ true → now ≡ false → names ≡ ms ++ m ∷ [] → is_name_token (lexeme_of token) ≡ true → m ≡ mention_of (lexeme_of token)
      → Said wants ms (drop i ts) → Said now names rest
  name_read m names wants now w n new is e so = λ end. named m is e (λ last. so last ∙ ap (λ x. with_names ms (listed x (lexemes_of (drop i ts)) last)) w) end ∙ (ap (λ x. with_names x (listed false (lexemes_of rest) end)) (sym new) ∙ ap (λ x. with_names names (listed x (lexemes_of rest) end)) (sym n))

  pub comma_read : (names : List Mention) (wants now : Bool) → wants ≡ false → now ≡ true → names ≡ ms → is_comma (lexeme_of token) ≡ true → Said wants ms (drop i ts) → Said now names rest
  comma_read names wants now w n same is so = λ end. parted is (λ last. so last ∙ ap (λ x. with_names ms (listed x (lexemes_of (drop i ts)) last)) w) end ∙ (ap (λ x. with_names x (listed true (lexemes_of rest) end)) (sym same) ∙ ap (λ x. with_names names (listed x (lexemes_of rest) end)) (sym n))

  pub name_lacks : (wants : Bool) (place : ℕ) → wants ≡ true → is_name_token (lexeme_of token) ≡ false → place ≡ token.place → Said wants ms (drop i ts) → (end : End) → whole end ≡ Err place
  name_lacks wants place w is e so = λ end. no_name is (λ last. so last ∙ ap (λ x. with_names ms (listed x (lexemes_of (drop i ts)) last)) w) end ∙ ap Err (sym e)

  pub comma_lacks : (wants : Bool) (place : ℕ) → wants ≡ false → is_comma (lexeme_of token) ≡ false → token.place ≡ place → Said wants ms (drop i ts) → (end : End) → whole end ≡ Err place
  comma_lacks wants place w is e so = λ end. no_comma is (λ last. so last ∙ ap (λ x. with_names ms (listed x (lexemes_of (drop i ts)) last)) w) end ∙ ap Err e

-- ---- where the tokens end

unknown_behind : (ms : List Mention) (wants : Bool) (place : ℕ) → with_names ms (ending wants (last.Unknown place)) ≡ Err place
unknown_behind ms true place = with_fault ms place
unknown_behind ms false place = with_fault ms place

pub at_unknown : (ms : List Mention) (wants : Bool) (end : End) (a b : ℕ) → end ≡ last.Unknown a → a ≡ b → with_names ms (ending wants end) ≡ Err b
at_unknown ms wants end a b is same = ap (λ e. with_names ms (ending wants e)) is ∙ (unknown_behind ms wants a ∙ ap Err same)

pub at_end : (ms : List Mention) (wants : Bool) (end : End) (a b : ℕ) → end ≡ last.Text a → wants ≡ true → a ≡ b → with_names ms (ending wants end) ≡ Err b
at_end ms wants end a b is w same = ap (λ e. with_names ms (ending wants e)) is ∙ (ap (λ x. with_names ms (ending x (last.Text a))) w ∙ (with_fault ms a ∙ ap Err same))

pub all_named : (ms : List Mention) (wants : Bool) (end : End) (a : ℕ) → end ≡ last.Text a → wants ≡ false → with_names ms (ending wants end) ≡ Ok ms
all_named ms wants end a is w = ap (λ e. with_names ms (ending wants e)) is ∙ (ap (λ x. with_names ms (ending x (last.Text a))) w ∙ with_none ms)
