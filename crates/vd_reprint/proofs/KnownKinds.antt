-- No token of what is read is of a kind that the grammar has nowhere.
use Rattle.std.proofs.Common.{ℕ, ◌≡◌, ◌≢◌, Bool, true, false, ◌&&◌, List, [], ◌∷◌, ◌++◌, refl, sym, ◌∙◌, ap, subst}
use Rattle.std.specs.Prelude.{not}
use Rattle.vd_tokens.specs.Shapes.{and_parts}
use Rattle.vd_grammar.specs.Grammar.{Symbol, word, part, Is}
use Rattle.vd_cgrammar.specs.declared.kind.Kind.TheVariants as k
use Rattle.vd_cgrammar.specs.declared.kind.Class.{Class}
use Rattle.vd_cgrammar.specs.Derivations.{Parts, ByRules, all_are}
use Rattle.vd_cgrammar.specs.Grammar.{Sort, Value, Rule, grammar, symbols}
use Rattle.vd_cgrammar.specs.Kinds.{has}
use Rattle.vd_cgrammar.specs.Lexeme.{Lexeme}
use Rattle.vd_cgrammar.specs.Precedence.{Vocabulary}
use Rattle.vd_cgrammar.specs.Standing.{AreTokens, none, next}
use Rattle.vd_cgrammar.proofs.Starts.{Values}
use Rattle.vd_clight.specs.Printed.{Words}

-- no symbol takes an unknown token
abbrev takes_known : List (Symbol Class Sort) → Bool
takes_known [] = true
takes_known (word c ∷ ss) = not (has c k.Other) && takes_known ss
takes_known (part S ∷ ss) = takes_known ss

rules_take_known : {S : Sort} (r : Rule S) → takes_known (symbols r) ≡ true
rules_take_known Rule.fn_section = refl
rules_take_known Rule.struct_section = refl
rules_take_known Rule.global_section = refl
rules_take_known Rule.function = refl
rules_take_known Rule.void_first = refl
rules_take_known Rule.filled_first = refl
rules_take_known Rule.no_parameter = refl
rules_take_known Rule.void_parameter = refl
rules_take_known Rule.last_parameter = refl
rules_take_known Rule.next_parameter = refl
rules_take_known Rule.no_declaration = refl
rules_take_known Rule.declaration = refl
rules_take_known Rule.simple_type = refl
rules_take_known Rule.struct_type = refl
rules_take_known Rule.filled_type = refl
rules_take_known Rule.filled_struct = refl
rules_take_known Rule.void_type = refl
rules_take_known Rule.no_star = refl
rules_take_known Rule.star = refl
rules_take_known Rule.expression = refl
rules_take_known Rule.no_operation = refl
rules_take_known Rule.operation = refl
rules_take_known Rule.name = refl
rules_take_known Rule.other_operand = refl
rules_take_known Rule.prefix = refl
rules_take_known Rule.measure = refl
rules_take_known Rule.number = refl
rules_take_known Rule.paren = refl
rules_take_known Rule.cast = refl
rules_take_known Rule.brackets = refl
rules_take_known Rule.no_postfix = refl
rules_take_known Rule.member = refl
rules_take_known Rule.index = refl
rules_take_known Rule.no_argument = refl
rules_take_known Rule.first_argument = refl
rules_take_known Rule.last_argument = refl
rules_take_known Rule.next_argument = refl
rules_take_known Rule.malloc = refl
rules_take_known Rule.spawn = refl
rules_take_known Rule.library = refl
rules_take_known Rule.special_source = refl
rules_take_known Rule.named_source = refl
rules_take_known Rule.other_source = refl
rules_take_known Rule.called_source = refl
rules_take_known Rule.operated_source = refl
rules_take_known Rule.called_statement = refl
rules_take_known Rule.assigned_statement = refl
rules_take_known Rule.no_value = refl
rules_take_known Rule.value = refl
rules_take_known Rule.last_field = refl
rules_take_known Rule.next_field = refl
rules_take_known Rule.no_length = refl
rules_take_known Rule.length = refl
rules_take_known Rule.no_initial = refl
rules_take_known Rule.initial = refl
rules_take_known Rule.one_value = refl
rules_take_known Rule.several_values = refl
rules_take_known Rule.positive_value = refl
rules_take_known Rule.negative_value = refl
rules_take_known Rule.address_value = refl
rules_take_known Rule.last_value = refl
rules_take_known Rule.next_value = refl
rules_take_known Rule.skip = refl
rules_take_known Rule.if_else = refl
rules_take_known Rule.while = refl
rules_take_known Rule.return = refl
rules_take_known Rule.special_statement = refl
rules_take_known Rule.named_statement = refl
rules_take_known Rule.other_statement = refl
rules_take_known Rule.jump = refl
rules_take_known Rule.last_statement = refl
rules_take_known Rule.next_statement = refl
rules_take_known Rule.block = refl
rules_take_known Rule.no_else = refl
rules_take_known Rule.else_block = refl

-- every token is of a known kind
unfoldable pub AllKnown : List Lexeme → Type 0
AllKnown [] = Unit {0}
AllKnown (t ∷ ts) = (t.kind ≢ k.Other) × AllKnown ts

both_known : (xs ys : List Lexeme) → AllKnown xs → AllKnown ys → AllKnown (xs ++ ys)
unfolding AllKnown
both_known [] ys h g = g
both_known (x ∷ xs) ys h g = (h.0, both_known xs ys h.1 g)

known_token : (c : Class) (t : Lexeme) → not (has c k.Other) ≡ true → has c t.kind ≡ true → t.kind ≢ k.Other
known_token c t h g e = let f : has c k.Other ≡ true = ap (has c) (sym e) ∙ g in let q : not (has c k.Other) ≡ false = ap not f in cc

-- what is shown of each sort
abbrev Known : (S : Sort) → List Lexeme → Value S → Type 0
Known S ts v = AllKnown ts

parts_known : (ss : List (Symbol Class Sort)) (ts : List Lexeme) (vs : Values ss) → takes_known ss ≡ true → Parts grammar Known ss ts vs → AllKnown ts
unfolding AllKnown
parts_known [] ts vs h e = subst AllKnown (sym e) tt
parts_known (word c ∷ ss) ts (t, vs) h (us, cut, g, m) =
    let s = and_parts (not (has c k.Other)) (takes_known ss) h in
    subst AllKnown (sym cut) (known_token c t s.0 g, parts_known ss us vs s.1 m)
parts_known (part S ∷ ss) ts (v, vs) h (xs, ys, cut, p, m) = subst AllKnown (sym cut) (both_known xs ys p (parts_known ss ys vs h m))

known_by_rules : ByRules grammar Known
known_by_rules S r ts vs m = parts_known (symbols r) ts vs (rules_take_known r) m

pub all_known : {S : Sort} {ts : List Lexeme} {v : Value S} → Is grammar S ts v → AllKnown ts
all_known x = all_are grammar Known known_by_rules x

-- ---- words that stand nowhere

module _ (V : Vocabulary) where
  -- a token that stands for a word, at no place
  abbrev pub token_at : List ℕ → Lexeme
  token_at w = record { kind = V.kind_at w; place = 0; spelling = w; value = V.value_at w; is_unsigned = V.unsigned_at w }

  unfoldable pub tokens_at : Words → List Lexeme
  tokens_at [] = []
  tokens_at (w ∷ ws) = token_at w ∷ tokens_at ws

  pub tokens_stand : (ws : Words) → AreTokens V (tokens_at ws) ws
  unfolding tokens_at
  tokens_stand [] = none
  tokens_stand (w ∷ ws) = next (record { kind_is = refl; spelling_is = refl; value_is = refl; unsigned_is = refl }) (tokens_stand ws)

  -- every word is taken for something
  unfoldable pub AllTaken : Words → Type 0
  AllTaken [] = Unit {0}
  AllTaken (w ∷ ws) = (V.kind_at w ≢ k.Other) × AllTaken ws

  pub all_taken : (ws : Words) → AllKnown (tokens_at ws) → AllTaken ws
  unfolding AllKnown tokens_at AllTaken
  all_taken [] h = tt
  all_taken (w ∷ ws) h = (h.0, all_taken ws h.1)
