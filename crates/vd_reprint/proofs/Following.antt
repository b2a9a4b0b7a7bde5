-- Words that are nested no more deeply than others, wherever both stand, and go on no deeper.
use Rattle.std.proofs.Common.{ℕ, suc, ◌-◌, ◌<◌, ◌≤◌, ◌≡◌, Bool, true, false, ◌||◌, ◌&&◌, List, [], ◌∷◌, ◌++◌, codes, refl, sym, ◌∙◌, ap, subst, arith}
use Rattle.std.specs.Prelude.{if◌then◌else◌}
use Rattle.std.proofs.lemmas.List.{map-append}
use Rattle.vd_base.specs.declared.ctype.CType.{CType}
use Rattle.vd_clight.specs.declared.syntax.Expr.{Expr}
use Rattle.vd_clight.specs.Printed.{Words, one, type_words, expression_words}
use Rattle.vd_grammar.specs.Grammar.{Is}
use Rattle.vd_cgrammar.specs.declared.depth.Depth.{Depth}
use Rattle.vd_cgrammar.specs.declared.kind.Kind.{Kind}
use Rattle.vd_cgrammar.specs.declared.kind.Kind.TheVariants as k
use Rattle.vd_cgrammar.specs.declared.kind.Class.TheVariants as c
use Rattle.vd_cgrammar.specs.Kinds.{has}
use Rattle.vd_cgrammar.specs.Lexeme.{Lexeme}
use Rattle.vd_cgrammar.specs.Nesting.{opens, closes, divides, is_operator, operators_after, after}
use Rattle.vd_cgrammar.specs.Grammar.{grammar, Expression, Type_}
use Rattle.vd_cgrammar.specs.Precedence.{Vocabulary, text_of, has_text, SpellsType, simple, struct, pointer}
use Rattle.vd_cgrammar.specs.Shallow.{nested, walked, Shallow}
use Rattle.vd_cgrammar.specs.Standing.{IsToken, AreRead, spellings}
use Rattle.vd_cgrammar.proofs.PrintedSpells.{simple_words, simple_text_is, struct_words, pointer_words}
use Rattle.vd_cgrammar.proofs.Shallowness.{Below, behind, PrintsSome, walked_append, shallow_parts, shallow_both, expression_prints}
use Rattle.vd_cgrammar.proofs.Spelled.{only, read_is_spelled, type_is_spelled}
use Rattle.vd_cgrammar.proofs.Starts.{append_nothing}

-- no more brackets and operators are counted, behind the same kind of token
pub record Within (u d : Depth) : Type 0 where
  pub below : Below u d
  pub same_last : u.is_opened ≡ d.is_opened

brackets_within : (o q : Bool) (m n : ℕ) → m ≤ n → (if o then suc m else (if q then m - 1 else m)) ≤ (if o then suc n else (if q then n - 1 else n))
brackets_within true q m n h = omega (arith, h)
brackets_within false true m n h = omega (arith, h)
brackets_within false false m n h = h

operators_within : (v o : Bool) (m n : ℕ) → m ≤ n → (if v then 0 else (if o then suc m else m)) ≤ (if v then 0 else (if o then suc n else n))
operators_within true o m n h = omega arith
operators_within false true m n h = omega (arith, h)
operators_within false false m n h = h

pub after_within : (kind : Kind) (u d : Depth) → Within u d → Within (after kind u) (after kind d)
after_within kind u d h = record {
  below = record {
    fewer_brackets = brackets_within (opens kind) (closes kind) u.brackets d.brackets h.below.fewer_brackets;
    fewer_operators = subst (λ f. operators_after kind u.is_opened u.operators ≤ operators_after kind f d.operators) h.same_last
        (operators_within (divides kind) (is_operator kind || (u.is_opened && has c.TypeWord kind)) u.operators d.operators h.below.fewer_operators);
  };
  same_last = refl;
}

nested_within : (u d : Depth) (most : ℕ) → Within u d → nested d < most → nested u < most
nested_within u d most h g = omega (arith, g, h.below.fewer_brackets, h.below.fewer_operators)

module _ (V : Vocabulary) where
  -- The second words are nested no more deeply than the first, from no deeper on, and so is what stands behind them.
  pub record Follows (ws us : Words) : Type 0 where
    pub shallow : (most : ℕ) (d u : Depth) → Within u d → Shallow V most d ws → Shallow V most u us
    pub ends : (d u : Depth) → Within u d → Within (walked V u us) (walked V d ws)

  pub nothing_follows : Follows [] []
  nothing_follows = record { shallow = λ most d u h s. tt; ends = λ d u h. h }

  pub both_follow : {ws us xs ys : Words} → Follows ws us → Follows xs ys → Follows (ws ++ xs) (us ++ ys)
  both_follow {ws} {us} {xs} {ys} p q = record {
    shallow = λ most d u h s.
        let parts = shallow_parts V most d ws xs s in
        shallow_both V most u us ys (p.shallow most d u h parts.0) (q.shallow most (walked V d ws) (walked V u us) (p.ends d u h) parts.1);
    ends = λ d u h.
        subst (λ z. Within z (walked V d (ws ++ xs))) (sym (walked_append V u us ys))
        (subst (λ z. Within (walked V (walked V u us) ys) z) (sym (walked_append V d ws xs)) (q.ends (walked V d ws) (walked V u us) (p.ends d u h)));
  }

  pub token_follows : (w u : List ℕ) → V.kind_at w ≡ V.kind_at u → Follows (one w) (one u)
  token_follows w u same = record {
    shallow = λ most d e h s.
        let first : nested (after (V.kind_at u) d) < most = subst (λ q. nested (after q d) < most) same s.0 in
        (nested_within (after (V.kind_at u) e) (after (V.kind_at u) d) most (after_within (V.kind_at u) e d h) first, tt);
    ends = λ d e h. subst (λ q. Within (after (V.kind_at u) e) (after q d)) (sym same) (after_within (V.kind_at u) e d h);
  }

  pub words_moved : {ws us vs : Words} → us ≡ vs → Follows ws vs → Follows ws us
  words_moved {ws} h p = subst (Follows ws) (sym h) p

  -- ---- tokens that are read

  -- a sign or a keyword, for its text
  pub sign_follows : (kind : Kind) → has_text (text_of kind) ≡ true → {t : Lexeme} → IsToken V t t.spelling → has (c.One kind) t.kind ≡ true → Follows (one t.spelling) (one (text_of kind))
  sign_follows kind h {t} i g = token_follows t.spelling (text_of kind) (sym i.kind_is ∙ (only V t.kind kind g ∙ sym (V.text_is kind h)))

  pub itself_follows : (w : List ℕ) → Follows (one w) (one w)
  itself_follows w = token_follows w w refl

  pub ended : {ts : List Lexeme} → ts ≡ [] → Follows (spellings ts) []
  ended h = subst (λ z. Follows (spellings z) []) (sym h) nothing_follows

  pub headed : {ts us : List Lexeme} {t : Lexeme} {w : List ℕ} {ws : Words} → ts ≡ t ∷ us → Follows (one t.spelling) (one w) → Follows (spellings us) ws → Follows (spellings ts) (w ∷ ws)
  headed {w = w} {ws = ws} cut p q = subst (λ z. Follows (spellings z) (w ∷ ws)) (sym cut) (both_follow p q)

  pub joined : {ts : List Lexeme} {us vs : Words} (xs ys : List Lexeme) → ts ≡ xs ++ ys → Follows (spellings xs) us → Follows (spellings ys) vs → Follows (spellings ts) (us ++ vs)
  joined {us = us} {vs = vs} xs ys cut p q =
      subst (λ z. Follows (spellings z) (us ++ vs)) (sym cut) (subst (λ z. Follows z (us ++ vs)) (sym (map-append (λ t. t.spelling) xs ys)) (both_follow p q))

  -- the last part is all that is left
  pub lone : {ts ys : List Lexeme} {us : Words} (xs : List Lexeme) → ts ≡ xs ++ ys → ys ≡ [] → Follows (spellings xs) us → Follows (spellings ts) us
  lone {us = us} xs cut h p = subst (λ z. Follows (spellings z) us) (sym (append_nothing cut h)) p

  -- ---- expressions and types

  of_prints : {ws us : Words} → PrintsSome V false ws us → Follows ws us
  of_prints {ws} {us} p = record {
    shallow = λ most d u h s. p.prints.shallow most d u tt tt h.below s;
    ends = λ d u h.
        let within : Within (behind u p.count) (behind d p.count) = record {
          below = record { fewer_brackets = h.below.fewer_brackets; fewer_operators = omega (arith, h.below.fewer_operators) };
          same_last = refl;
        } in
        subst (λ z. Within z (walked V d ws)) (sym (p.prints.prints u tt)) (subst (λ z. Within (behind u p.count) z) (sym (p.prints.walks d tt)) within);
  }

  pub expression_follows : {ts : List Lexeme} {x : Expr} → Is grammar Expression ts x → AreRead V ts → Follows (spellings ts) (expression_words x)
  expression_follows {ts} {x} p a = of_prints (expression_prints V x (spellings ts) (read_is_spelled V x ts p a))

  spelled_type_follows : {t : CType} {ws : Words} → SpellsType V t ws → Follows ws (type_words t)
  spelled_type_follows {t} (simple w h made cut) =
      let kind = V.kind_at w in
      subst (λ z. Follows z (type_words t)) (sym cut)
      (words_moved (ap type_words made ∙ simple_words kind h) (token_follows w (text_of kind) (sym (V.text_is kind (simple_text_is kind h)))))
  spelled_type_follows {t} (struct s w hs h made cut) =
      subst (λ z. Follows z (type_words t)) (sym cut)
      (words_moved (ap type_words made ∙ struct_words w) (both_follow (token_follows s (codes "struct") (hs ∙ sym (V.text_is k.Struct refl))) (itself_follows w)))
  spelled_type_follows {t} (pointer to xs star hs s made cut) =
      subst (λ z. Follows z (type_words t)) (sym cut)
      (words_moved (ap type_words made ∙ pointer_words to) (both_follow (spelled_type_follows s) (token_follows star (codes "*") (hs ∙ sym (V.text_is k.Star refl)))))

  pub type_follows : {ts : List Lexeme} {t : CType} → Is grammar Type_ ts t → AreRead V ts → Follows (spellings ts) (type_words t)
  type_follows {ts} {t} p a = spelled_type_follows (type_is_spelled V t ts p a)
