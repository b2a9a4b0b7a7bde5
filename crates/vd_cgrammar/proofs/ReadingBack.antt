-- Tokens that spell an expression are read as it, places apart.
use Rattle.std.proofs.Common.{ℕ, suc, ◌+◌, ◌-◌, ◌<◌, ◌≤◌, ◌≡◌, Bool, true, false, List, [], ◌∷◌, ◌++◌, refl, sym, ◌∙◌, ap, subst, arith, append_assoc}
use Rattle.std.specs.Prelude.{◌==◌}
use Rattle.std.proofs.lemmas.Bool.{eqb-false}
use Rattle.std.proofs.lemmas.List.{append-nil}
use Rattle.vd_base.specs.declared.ctype.CType.{CType}
use Rattle.vd_base.specs.declared.ctype.CType.TheVariants as typ
use Rattle.vd_clight.specs.declared.syntax.Expr.{Expr, out-Expr}
use Rattle.vd_clight.specs.declared.syntax.ExprNode.{ExprNode}
use Rattle.vd_clight.specs.declared.syntax.ExprNode.TheVariants as e
use Rattle.vd_clight.specs.Printed.{Words, Phrase, expression_words, phrase, precedence, of_prefixes, of_suffixes}
use Rattle.vd_grammar.specs.Grammar.{part, Is, Matches, nothing, token_then, part_then, by_rule}
use Rattle.vd_cgrammar.specs.declared.kind.Kind.{Kind}
use Rattle.vd_cgrammar.specs.declared.kind.Kind.TheVariants as k
use Rattle.vd_cgrammar.specs.declared.kind.Class.TheVariants as c
use Rattle.vd_cgrammar.specs.declared.parts.Postfix.{Postfix}
use Rattle.vd_cgrammar.specs.declared.parts.Postfix.TheVariants as postfix
use Rattle.vd_cgrammar.specs.Kinds.{has, kind_number}
use Rattle.vd_cgrammar.specs.Lexeme.{Lexeme}
use Rattle.vd_cgrammar.specs.Levels.{AllFrom}
use Rattle.vd_cgrammar.specs.Syntax.{at, simple_of, pointers, prefixed, measured, member_of, behind, binary_of, level_of, grouped}
use Rattle.vd_cgrammar.specs.Grammar.{Sort, Value, Rule, grammar, Expression, Operations, Unary, Plain, Postfixes, Type_, Stars}
use Rattle.vd_cgrammar.specs.Precedence.{Vocabulary, SpellsType, simple, struct, pointer, Spells, bare, brackets, SpellsBare, number, name, prefix, cast, measure, binary, member, index, node_of, binds}
use Rattle.vd_cgrammar.specs.Standing.{IsToken, AreTokens, none, next, ReadsAs, PrintedIsRead}
use Rattle.vd_cgrammar.specs.Unplaced.{unplaced_node, SameNode}
use Rattle.vd_cgrammar.proofs.SameNodes.{node_at, same_behind, same_prefixed, same_member, same_binary, same_index, same_cast}
use Rattle.vd_cgrammar.proofs.Roots.{grouped_split}
use Rattle.vd_cgrammar.proofs.PrintedPhrases.{binary_is, cast_is}
use Rattle.vd_cgrammar.proofs.PrintedSpells.{prefix_words, measure_words, printed_spells}

-- a token of one kind
pub of_kind : (t : Lexeme) (kind : Kind) → t.kind ≡ kind → has (c.One kind) t.kind ≡ true
of_kind t kind h = ap (has (c.One kind)) h ∙ eq_eqb (kind_number kind)
  where
    eq_eqb : (n : ℕ) → (n == n) ≡ true
    eq_eqb n = by_test (n == n) refl
      where
        by_test : (t : Bool) → (n == n) ≡ t → (n == n) ≡ true
        by_test true g = g
        by_test false g = absurd (eqb-false n n g refl)

-- what has no more symbols ends there
last_part : {S : Sort} {ts : List Lexeme} {v : Value S} → Is grammar S ts v → Matches grammar (part S ∷ []) ts (v, tt)
last_part {ts = ts} x = part_then (sym (append-nil ts)) x nothing

-- ---- what is read

-- an operand that the tokens are
record IsOperand (n : ExprNode) (ts : List Lexeme) : Type 0 where
  value : Expr
  is : Is grammar Unary ts value
  same : SameNode (node_of value) n

-- the same with suffixes behind it
record IsSuffixed (n : ExprNode) (ts zs : List Lexeme) (ps : List Postfix) : Type 0 where
  value : Expr
  is : Is grammar Unary (ts ++ zs) value
  same : SameNode (node_of value) (node_of (behind 0 n ps))

abbrev Suffixed : ExprNode → List Lexeme → Type 0
Suffixed n ts = (zs : List Lexeme) (ps : List Postfix) → Is grammar Postfixes zs ps → IsSuffixed n ts zs ps

-- operands with operators between them, which bind so tightly
record IsWhole (least : ℕ) (n : ExprNode) (ts : List Lexeme) : Type 0 where
  first : Expr
  others : List (Kind × Expr)
  front : List Lexeme
  back : List Lexeme
  cut : ts ≡ front ++ back
  operand : Is grammar Unary front first
  operators : (zs : List Lexeme) (os : List (Kind × Expr)) → Is grammar Operations zs os → Is grammar Operations (back ++ zs) (others ++ os)
  from : AllFrom (least - 1) others
  same : SameNode (node_of (grouped first others)) n

record Read (least : ℕ) (n : ExprNode) (ts : List Lexeme) : Type 0 where
  suffixed : of_suffixes ≤ least → Suffixed n ts
  operand : of_prefixes ≤ least → IsOperand n ts
  whole : IsWhole least n ts

weaken : (m n : ℕ) (os : List (Kind × Expr)) → m ≤ n → AllFrom n os → AllFrom m os
weaken m n [] h a = tt
weaken m n (o ∷ os) h a = let x : n ≤ level_of o.0 = a.0 in (omega (arith, x, h), weaken m n os h a.1)

all_append : (n : ℕ) (xs ys : List (Kind × Expr)) → AllFrom n xs → AllFrom n ys → AllFrom n (xs ++ ys)
all_append n [] ys a b = b
all_append n (x ∷ xs) ys a b = (a.0, all_append n xs ys a.1 b)

lower : (k m : ℕ) (n : ExprNode) (ts : List Lexeme) → k ≤ m → Read m n ts → Read k n ts
lower k m n ts h r = record {
  suffixed = λ g. r.suffixed (omega (arith, g, h));
  operand = λ g. r.operand (omega (arith, g, h));
  whole = record {
    first = r.whole.first;
    others = r.whole.others;
    front = r.whole.front;
    back = r.whole.back;
    cut = r.whole.cut;
    operand = r.whole.operand;
    operators = r.whole.operators;
    from = weaken (k - 1) (m - 1) r.whole.others (omega (arith, h)) r.whole.from;
    same = r.whole.same;
  };
}

no_operators : Is grammar Operations [] []
no_operators = by_rule Rule.no_operation refl nothing

no_suffixes : Is grammar Postfixes [] []
no_suffixes = by_rule Rule.no_postfix refl nothing

alone : (x : Expr) → grouped x [] ≡ x
unfolding grouped
alone x = refl

operand_whole : (least : ℕ) (n : ExprNode) (ts : List Lexeme) → IsOperand n ts → IsWhole least n ts
operand_whole least n ts r = record {
  first = r.value;
  others = [];
  front = ts;
  back = [];
  cut = sym (append-nil ts);
  operand = r.is;
  operators = λ zs os p. p;
  from = tt;
  same = ap (λ x. unplaced_node (node_of x)) (alone r.value) ∙ r.same;
}

operand_read : (least : ℕ) (n : ExprNode) (ts : List Lexeme) → least < of_suffixes → IsOperand n ts → Read least n ts
operand_read least n ts h r = record { suffixed = λ g. absurd (omega (arith, g, h)); operand = λ g. r; whole = operand_whole least n ts r }

suffixed_operand : (n : ExprNode) (ts : List Lexeme) → Suffixed n ts → IsOperand n ts
suffixed_operand n ts s =
    let r = s [] [] no_suffixes in
    record { value = r.value; is = subst (λ z. Is grammar Unary z r.value) (append-nil ts) r.is; same = r.same ∙ ap unplaced_node (node_at 0 n) }

suffixed_read : (least : ℕ) (n : ExprNode) (ts : List Lexeme) → Suffixed n ts → Read least n ts
suffixed_read least n ts s = record { suffixed = λ g. s; operand = λ g. suffixed_operand n ts s; whole = operand_whole least n ts (suffixed_operand n ts s) }

-- a whole expression
record IsExpression (n : ExprNode) (ts : List Lexeme) : Type 0 where
  value : Expr
  is : Is grammar Expression ts value
  same : SameNode (node_of value) n

whole_expression : (least : ℕ) (n : ExprNode) (ts : List Lexeme) → IsWhole least n ts → IsExpression n ts
whole_expression least n ts w = record {
  value = grouped w.first w.others;
  is = by_rule Rule.expression refl (part_then w.cut w.operand (last_part
      (subst (λ z. Is grammar Operations z w.others) (append-nil w.back) (subst (λ z. Is grammar Operations (w.back ++ []) z) (append-nil w.others) (w.operators [] [] no_operators)))));
  same = w.same;
}

-- ---- types and operands

plain : {ts : List Lexeme} {x : Expr} → Is grammar Plain ts x → Is grammar Unary ts x
plain x = by_rule Rule.other_operand refl (last_part x)

-- tokens that stand for words in two parts
pub record Split (V : Vocabulary) (ts : List Lexeme) (xs ys : Words) : Type 0 where
  pub front : List Lexeme
  pub back : List Lexeme
  pub cut : ts ≡ front ++ back
  pub left : AreTokens V front xs
  pub right : AreTokens V back ys

module _ (V : Vocabulary) where
  pub split : {ts : List Lexeme} (xs ys : Words) → AreTokens V ts (xs ++ ys) → Split V ts xs ys
  split {ts} [] ys a = record { front = []; back = ts; cut = refl; left = none; right = a }
  split (x ∷ xs) ys (next {t = t} i a) =
      let s = split xs ys a in
      record { front = t ∷ s.front; back = s.back; cut = ap (λ z. t ∷ z) s.cut; left = next i s.left; right = s.right }

  pub nothing_left : {ts : List Lexeme} → AreTokens V ts [] → ts ≡ []
  nothing_left none = refl

  -- ---- types, with stars behind them

  pub record IsStarred (t : CType) (ts zs : List Lexeme) (n : ℕ) : Type 0 where
    pub is : Is grammar Type_ (ts ++ zs) (pointers n t)

  abbrev Starred : CType → List Lexeme → Type 0
  Starred t ts = (zs : List Lexeme) (n : ℕ) → Is grammar Stars zs n → IsStarred t ts zs n

  simple_read : (w : List ℕ) → has c.SimpleType (V.kind_at w) ≡ true → {ts : List Lexeme} → AreTokens V ts (w ∷ []) → Starred (simple_of (V.kind_at w)) ts
  simple_read w h (next {t = t} i none) zs n p =
      record { is = subst (λ q. Is grammar Type_ (t ∷ zs) (pointers n (simple_of q))) i.kind_is (by_rule Rule.simple_type refl (token_then (ap (has c.SimpleType) i.kind_is ∙ h) (last_part p))) }

  struct_read : (s w : List ℕ) → V.kind_at s ≡ k.Struct → has c.AnyName (V.kind_at w) ≡ true → {ts : List Lexeme} → AreTokens V ts (s ∷ w ∷ []) → Starred (typ.Struct w) ts
  struct_read s w hs h (next {t = t} i (next {t = u} j none)) zs n p =
      record {
        is = subst (λ q. Is grammar Type_ (t ∷ u ∷ zs) (pointers n (typ.Struct q))) j.spelling_is
            (by_rule Rule.struct_type refl (token_then (of_kind t k.Struct (i.kind_is ∙ hs)) (token_then (ap (has c.AnyName) j.kind_is ∙ h) (last_part p))));
      }

  star_read : (star : List ℕ) → V.kind_at star ≡ k.Star → {to : CType} {us vs : List Lexeme} → Starred to us → AreTokens V vs (star ∷ []) → Starred (typ.Pointer to) (us ++ vs)
  star_read star h {to} {us} r (next {t = t} i none) zs n p =
      record {
        is = subst (λ z. Is grammar Type_ z (pointers n (typ.Pointer to))) (sym (append_assoc us (t ∷ []) zs))
            (r (t ∷ zs) (suc n) (by_rule Rule.star refl (token_then (of_kind t k.Star (i.kind_is ∙ h)) (last_part p)))).is;
      }

  pub type_read : {t : CType} {ws : Words} → SpellsType V t ws → {ts : List Lexeme} → AreTokens V ts ws → Starred t ts
  type_read (simple w h made cut) {ts} a = subst (λ t. Starred t ts) (sym made) (simple_read w h (subst (AreTokens V ts) cut a))
  type_read (struct s w hs h made cut) {ts} a = subst (λ t. Starred t ts) (sym made) (struct_read s w hs h (subst (AreTokens V ts) cut a))
  type_read (pointer to xs star h s made cut) {ts} a =
      let p = split xs (star ∷ []) (subst (AreTokens V ts) cut a) in
      subst (λ t. Starred t ts) (sym made) (subst (Starred (typ.Pointer to)) (sym p.cut) (star_read star h (type_read s p.left) p.right))

  pub whole_type : {t : CType} {ts : List Lexeme} → Starred t ts → Is grammar Type_ ts t
  whole_type {t} {ts} r = subst (λ z. Is grammar Type_ z t) (append-nil ts) (r [] 0 (by_rule Rule.no_star refl nothing)).is

  -- ---- operands

  number_read : (w : List ℕ) → has c.AnyNumber (V.kind_at w) ≡ true → {ts : List Lexeme} → AreTokens V ts (w ∷ []) → Suffixed (e.Num (V.value_at w) (V.unsigned_at w)) ts
  number_read w h (next {t = t} i none) zs ps p = record {
    value = behind t.place (e.Num t.value t.is_unsigned) ps;
    is = plain (by_rule Rule.number refl (token_then (ap (has c.AnyNumber) i.kind_is ∙ h) (last_part p)));
    same = same_behind t.place 0 (e.Num t.value t.is_unsigned) (e.Num (V.value_at w) (V.unsigned_at w)) ps
        (ap unplaced_node (ap (λ n. e.Num n t.is_unsigned) i.value_is ∙ ap (λ u. e.Num (V.value_at w) u) i.unsigned_is));
  }

  name_read : (w : List ℕ) → has c.AnyName (V.kind_at w) ≡ true → {ts : List Lexeme} → AreTokens V ts (w ∷ []) → Suffixed (e.Ident w) ts
  name_read w h (next {t = t} i none) zs ps p = record {
    value = behind t.place (e.Ident t.spelling) ps;
    is = by_rule Rule.name refl (token_then (ap (has c.AnyName) i.kind_is ∙ h) (last_part p));
    same = same_behind t.place 0 (e.Ident t.spelling) (e.Ident w) ps (ap unplaced_node (ap e.Ident i.spelling_is));
  }

  prefix_read : (o : List ℕ) (x : Expr) → has c.Prefix (V.kind_at o) ≡ true → {t : Lexeme} {us : List Lexeme} → IsToken V t o → IsOperand (node_of x) us
      → IsOperand (prefixed (V.kind_at o) x) (t ∷ us)
  prefix_read o x h {t} i r = record {
    value = at t.place (prefixed t.kind r.value);
    is = plain (by_rule Rule.prefix refl (token_then (ap (has c.Prefix) i.kind_is ∙ h) (last_part r.is)));
    same = ap unplaced_node (node_at t.place (prefixed t.kind r.value)) ∙ (same_prefixed r.value x r.same t.kind ∙ ap (λ q. unplaced_node (prefixed q x)) i.kind_is);
  }

  measure_read : (m b close : List ℕ) (ct : CType) → has c.Measure (V.kind_at m) ≡ true → V.kind_at b ≡ k.LeftParen → V.kind_at close ≡ k.RightParen
      → {t s : Lexeme} {us vs : List Lexeme} → IsToken V t m → IsToken V s b → Starred ct us → AreTokens V vs (close ∷ []) → IsOperand (measured (V.kind_at m) ct) (t ∷ s ∷ (us ++ vs))
  measure_read m b close ct h hb hc {t} {s} {us} i j r (next {t = u} l none) = record {
    value = at t.place (measured t.kind ct);
    is = plain (by_rule Rule.measure refl (token_then (ap (has c.Measure) i.kind_is ∙ h) (token_then (of_kind s k.LeftParen (j.kind_is ∙ hb))
        (part_then refl (whole_type r) (token_then (of_kind u k.RightParen (l.kind_is ∙ hc)) nothing)))));
    same = ap unplaced_node (node_at t.place (measured t.kind ct)) ∙ ap (λ q. unplaced_node (measured q ct)) i.kind_is;
  }

  cast_read : (b close : List ℕ) (ct : CType) (x : Expr) → V.kind_at b ≡ k.LeftParen → V.kind_at close ≡ k.RightParen
      → {t u : Lexeme} {us vs : List Lexeme} → IsToken V t b → Starred ct us → IsToken V u close → IsOperand (node_of x) vs → IsOperand (e.Cast ct x) (t ∷ (us ++ u ∷ vs))
  cast_read b close ct x hb hc {t} {u} i r l v = record {
    value = at t.place (e.Cast ct v.value);
    is = plain (by_rule Rule.paren refl (token_then (of_kind t k.LeftParen (i.kind_is ∙ hb)) (last_part
        (by_rule Rule.cast refl (part_then refl (whole_type r) (token_then (of_kind u k.RightParen (l.kind_is ∙ hc)) (last_part v.is)))))));
    same = ap unplaced_node (node_at t.place (e.Cast ct v.value)) ∙ same_cast v.value x v.same ct;
  }

  brackets_read : (b close : List ℕ) (n : ExprNode) → V.kind_at b ≡ k.LeftParen → V.kind_at close ≡ k.RightParen
      → {t : Lexeme} {us vs : List Lexeme} → IsToken V t b → IsExpression n us → AreTokens V vs (close ∷ []) → Suffixed n (t ∷ (us ++ vs))
  brackets_read b close n hb hc {t} {us} i r (next {t = u} l none) zs ps p = record {
    value = behind t.place (node_of r.value) ps;
    is = plain (by_rule Rule.paren refl (token_then (of_kind t k.LeftParen (i.kind_is ∙ hb)) (last_part
        (by_rule Rule.brackets refl (part_then (append_assoc us (u ∷ []) zs) r.is (token_then (of_kind u k.RightParen (l.kind_is ∙ hc)) (last_part p)))))));
    same = same_behind t.place 0 (node_of r.value) n ps r.same;
  }

  member_read : (o f : List ℕ) (x : Expr) → has c.Member (V.kind_at o) ≡ true → has c.AnyName (V.kind_at f) ≡ true
      → {us vs : List Lexeme} → Suffixed (node_of x) us → AreTokens V vs (o ∷ f ∷ []) → Suffixed (member_of (V.kind_at o) x f) (us ++ vs)
  member_read o f x h g {us} r (next {t = t} i (next {t = u} j none)) zs ps p =
      let q = r (t ∷ u ∷ zs) (postfix.Member t.kind u.spelling ∷ ps) (by_rule Rule.member refl (token_then (ap (has c.Member) i.kind_is ∙ h) (token_then (ap (has c.AnyName) j.kind_is ∙ g) (last_part p)))) in
      record {
        value = q.value;
        is = subst (λ z. Is grammar Unary z q.value) (sym (append_assoc us (t ∷ u ∷ []) zs)) q.is;
        same = q.same ∙ same_behind 0 0 (member_of t.kind (at 0 (node_of x)) u.spelling) (member_of (V.kind_at o) x f) ps
            (same_member (at 0 (node_of x)) x (ap unplaced_node (node_at 0 (node_of x))) t.kind u.spelling
            ∙ (ap (λ m. unplaced_node (member_of m x u.spelling)) i.kind_is ∙ ap (λ m. unplaced_node (member_of (V.kind_at o) x m)) j.spelling_is));
      }

  index_read : (b close : List ℕ) (x y : Expr) → V.kind_at b ≡ k.LeftBracket → V.kind_at close ≡ k.RightBracket
      → {t u : Lexeme} {us vs : List Lexeme} → Suffixed (node_of x) us → IsToken V t b → IsExpression (node_of y) vs → IsToken V u close
      → Suffixed (e.Index x y) (us ++ t ∷ (vs ++ u ∷ []))
  index_read b close x y hb hc {t} {u} {us} {vs} r i v l zs ps p =
      let q = r (t ∷ (vs ++ u ∷ zs)) (postfix.Index v.value ∷ ps)
      (by_rule Rule.index refl (token_then (of_kind t k.LeftBracket (i.kind_is ∙ hb)) (part_then refl v.is (token_then (of_kind u k.RightBracket (l.kind_is ∙ hc)) (last_part p))))) in
      record {
        value = q.value;
        is = subst (λ z. Is grammar Unary z q.value) (ap (λ z. us ++ t ∷ z) (sym (append_assoc vs (u ∷ []) zs)) ∙ sym (append_assoc us (t ∷ (vs ++ u ∷ [])) zs)) q.is;
        same = q.same ∙ same_behind 0 0 (e.Index (at 0 (node_of x)) v.value) (e.Index x y) ps
            (same_index (at 0 (node_of x)) x (ap unplaced_node (node_at 0 (node_of x))) v.value y v.same);
      }

  -- ---- binary operators

  pub level_is : (kind : Kind) → has c.Binary kind ≡ true → precedence (binary_of kind) ≡ suc (level_of kind)
  level_is k.Or h = refl
  level_is k.Xor h = refl
  level_is k.And h = refl
  level_is k.Equal h = refl
  level_is k.NotEqual h = refl
  level_is k.Less h = refl
  level_is k.LessEqual h = refl
  level_is k.Greater h = refl
  level_is k.GreaterEqual h = refl
  level_is k.ShiftLeft h = refl
  level_is k.ShiftRight h = refl
  level_is k.Plus h = refl
  level_is k.Minus h = refl
  level_is k.Star h = refl
  level_is k.Slash h = refl
  level_is k.Percent h = refl
  level_is _ h = cc

  pub level_below : (kind : Kind) → has c.Binary kind ≡ true → precedence (binary_of kind) < of_prefixes
  level_below k.Or h = omega arith
  level_below k.Xor h = omega arith
  level_below k.And h = omega arith
  level_below k.Equal h = omega arith
  level_below k.NotEqual h = omega arith
  level_below k.Less h = omega arith
  level_below k.LessEqual h = omega arith
  level_below k.Greater h = omega arith
  level_below k.GreaterEqual h = omega arith
  level_below k.ShiftLeft h = omega arith
  level_below k.ShiftRight h = omega arith
  level_below k.Plus h = omega arith
  level_below k.Minus h = omega arith
  level_below k.Star h = omega arith
  level_below k.Slash h = omega arith
  level_below k.Percent h = omega arith
  level_below _ h = cc

  binary_whole : (o : List ℕ) (x y : Expr) → has c.Binary (V.kind_at o) ≡ true → {t : Lexeme} {us vs : List Lexeme} → IsToken V t o
      → IsWhole (precedence (binary_of (V.kind_at o))) (node_of x) us → IsWhole (precedence (binary_of (V.kind_at o)) + 1) (node_of y) vs
      → IsWhole (precedence (binary_of (V.kind_at o))) (e.Binary (binary_of (V.kind_at o)) x y) (us ++ t ∷ vs)
  binary_whole o x y h {t} {us} {vs} i l r =
      let kind = V.kind_at o in
      let level = level_of t.kind in
      let p : precedence (binary_of kind) ≡ suc level = level_is kind h ∙ ap (λ q. suc (level_of q)) (sym i.kind_is) in
      let below : precedence (binary_of kind) - 1 ≡ level = omega (arith, p) in
      let above : precedence (binary_of kind) + 1 - 1 ≡ suc level = omega (arith, p) in
      let left : AllFrom level l.others = subst (λ m. AllFrom m l.others) below l.from in
      let right : AllFrom (suc level) r.others = subst (λ m. AllFrom m r.others) above r.from in
      record {
        first = l.first;
        others = l.others ++ (t.kind, r.first) ∷ r.others;
        front = l.front;
        back = l.back ++ t ∷ (r.front ++ r.back);
        cut = ap (λ z. z ++ t ∷ vs) l.cut ∙ (append_assoc l.front l.back (t ∷ vs) ∙ ap (λ z. l.front ++ (l.back ++ t ∷ z)) r.cut);
        operand = l.operand;
        operators = λ zs os q.
            let again = r.operators zs os q in
            let one = by_rule Rule.operation refl (token_then (ap (has c.Binary) i.kind_is ∙ h) (part_then (append_assoc r.front r.back zs) r.operand (last_part again))) in
            let both = l.operators (t ∷ ((r.front ++ r.back) ++ zs)) ((t.kind, r.first) ∷ (r.others ++ os)) one in
            subst (λ z. Is grammar Operations z ((l.others ++ (t.kind, r.first) ∷ r.others) ++ os)) (sym (append_assoc l.back (t ∷ (r.front ++ r.back)) zs))
            (subst (λ z. Is grammar Operations (l.back ++ t ∷ ((r.front ++ r.back) ++ zs)) z) (sym (append_assoc l.others ((t.kind, r.first) ∷ r.others) os)) both);
        from = subst (λ m. AllFrom m (l.others ++ (t.kind, r.first) ∷ r.others)) (sym below)
            (all_append level l.others ((t.kind, r.first) ∷ r.others) left (omega arith, weaken level (suc level) r.others (omega arith) right));
        same = ap (λ z. unplaced_node (node_of z)) (grouped_split l.first l.others (t.kind, r.first) r.others left right)
            ∙ (ap unplaced_node (node_at (out-Expr (grouped l.first l.others)).place (e.Binary (binary_of t.kind) (grouped l.first l.others) (grouped r.first r.others)))
            ∙ (same_binary (grouped l.first l.others) x l.same (grouped r.first r.others) y r.same (binary_of t.kind)
            ∙ ap (λ q. unplaced_node (e.Binary (binary_of q) x y)) i.kind_is));
      }

  -- ---- every spelling

  -- the first token and the others
  pub record First (ts : List Lexeme) (w : List ℕ) (ws : Words) : Type 0 where
    pub token : Lexeme
    pub rest : List Lexeme
    pub cut : ts ≡ token ∷ rest
    pub is : IsToken V token w
    pub others : AreTokens V rest ws

  pub first : {ts : List Lexeme} {w : List ℕ} {ws : Words} → AreTokens V ts (w ∷ ws) → First ts w ws
  first (next {t = t} {ts = ts} i a) = record { token = t; rest = ts; cut = refl; is = i; others = a }

  moved : {n m : ExprNode} {ts us : List Lexeme} → n ≡ m → ts ≡ us → IsOperand m us → IsOperand n ts
  moved {n} {m} {ts} {us} h g r = subst (λ z. IsOperand z ts) (sym h) (subst (IsOperand m) (sym g) r)

  moved_suffixed : {n m : ExprNode} {ts us : List Lexeme} → n ≡ m → ts ≡ us → Suffixed m us → Suffixed n ts
  moved_suffixed {n} {m} {ts} {us} h g r = subst (λ z. Suffixed z ts) (sym h) (subst (Suffixed m) (sym g) r)

  strength_is : (n m : ExprNode) (p : Phrase) → n ≡ m → phrase m ≡ p → binds n ≡ p.strength_of
  strength_is n m p h g = ap binds h ∙ ap (λ q. q.strength_of) g

  binary_read : (o : List ℕ) (n : ExprNode) (x y : Expr) (ts us : List Lexeme) → has c.Binary (V.kind_at o) ≡ true → n ≡ e.Binary (binary_of (V.kind_at o)) x y → ts ≡ us
      → IsWhole (precedence (binary_of (V.kind_at o))) (e.Binary (binary_of (V.kind_at o)) x y) us → Read (binds n) n ts
  binary_read o n x y ts us h made cut w =
      let kind = V.kind_at o in
      let p : binds n ≡ precedence (binary_of kind) = strength_is n (e.Binary (binary_of kind) x y) _ made (binary_is (binary_of kind) x y) in
      let low : precedence (binary_of kind) < of_prefixes = level_below kind h in
      record {
        suffixed = λ g. absurd (omega (arith, g, p, low));
        operand = λ g. absurd (omega (arith, g, p, low));
        whole = subst (λ m. IsWhole m n ts) (sym p) (subst (λ m. IsWhole (precedence (binary_of kind)) m ts) (sym made)
            (subst (IsWhole (precedence (binary_of kind)) (e.Binary (binary_of kind) x y)) (sym cut) w));
      }

  mutual
    read_bare : {n : ExprNode} {ws : Words} → SpellsBare V n ws → {ts : List Lexeme} → AreTokens V ts ws → Read (binds n) n ts
    read_bare {n} (number w h made cut) {ts} a = suffixed_read (binds n) n ts (moved_suffixed made refl (number_read w h (subst (AreTokens V ts) cut a)))
    read_bare {n} (name w h made cut) {ts} a = suffixed_read (binds n) n ts (moved_suffixed made refl (name_read w h (subst (AreTokens V ts) cut a)))
    read_bare {n} (prefix o x xs h s made cut) {ts} a =
        let f = first (subst (AreTokens V ts) cut a) in
        let low : binds n ≡ of_prefixes = strength_is n (prefixed (V.kind_at o) x) _ made (prefix_words (V.kind_at o) h x) in
        operand_read (binds n) n ts (omega (arith, low)) (moved made f.cut (prefix_read o x h f.is ((read s f.others).operand (omega arith))))
    read_bare {n} (cast b close t ws x xs hb hc ht s made cut) {ts} a =
        let p = split (b ∷ ws) (close ∷ xs) (subst (AreTokens V ts) cut a) in
        let f = first p.left in
        let g = first p.right in
        let low : binds n ≡ of_prefixes = strength_is n (e.Cast t x) _ made (cast_is t x) in
        operand_read (binds n) n ts (omega (arith, low))
        (moved made (p.cut ∙ (ap (λ z. z ++ p.back) f.cut ∙ ap (λ z. (f.token ∷ f.rest) ++ z) g.cut)) (cast_read b close t x hb hc f.is (type_read ht f.others) g.is ((read s g.others).operand (omega arith))))
    read_bare {n} (measure m b close t ws h hb hc ht made cut) {ts} a =
        let f = first (subst (AreTokens V ts) cut a) in
        let g = first f.others in
        let p = split ws (close ∷ []) g.others in
        let low : binds n ≡ of_prefixes = strength_is n (measured (V.kind_at m) t) _ made (measure_words (V.kind_at m) h t) in
        operand_read (binds n) n ts (omega (arith, low))
        (moved made (f.cut ∙ ap (λ z. f.token ∷ z) (g.cut ∙ ap (λ z. g.token ∷ z) p.cut)) (measure_read m b close t h hb hc f.is g.is (type_read ht p.left) p.right))
    read_bare {n} (binary o x y xs ys h s r made cut) {ts} a =
        let p = split xs (o ∷ ys) (subst (AreTokens V ts) cut a) in
        let f = first p.right in
        binary_read o n x y ts (p.front ++ f.token ∷ f.rest) h made (p.cut ∙ ap (λ z. p.front ++ z) f.cut)
        (binary_whole o x y h f.is (read s p.left).whole (read r f.others).whole)
    read_bare {n} (member o f x xs h g s made cut) {ts} a =
        let p = split xs (o ∷ f ∷ []) (subst (AreTokens V ts) cut a) in
        suffixed_read (binds n) n ts (moved_suffixed made p.cut (member_read o f x h g ((read s p.left).suffixed (omega arith)) p.right))
    read_bare {n} (index b close x y xs ys hb hc s r made cut) {ts} a =
        let p = split xs (b ∷ ys ++ close ∷ []) (subst (AreTokens V ts) (cut ∙ append_assoc xs (b ∷ ys) (close ∷ [])) a) in
        let f = first p.right in
        let q = split ys (close ∷ []) f.others in
        let g = first q.right in
        let end : g.rest ≡ [] = nothing_left g.others in
        suffixed_read (binds n) n ts (moved_suffixed made
        (p.cut ∙ ap (λ z. p.front ++ z) (f.cut ∙ ap (λ z. f.token ∷ z) (q.cut ∙ ap (λ z. q.front ++ z) (g.cut ∙ ap (λ z. g.token ∷ z) end))))
        (index_read b close x y hb hc ((read s p.left).suffixed (omega arith)) f.is (whole_expression 0 (node_of y) q.front (read r q.left).whole) g.is))

    read : {least : ℕ} {n : ExprNode} {ws : Words} → Spells V least n ws → {ts : List Lexeme} → AreTokens V ts ws → Read least n ts
    read {least} {n} (bare h s) {ts} a = lower least (binds n) n ts h (read_bare s a)
    read {least} {n} (brackets b close xs hb hc s cut) {ts} a =
        let f = first (subst (AreTokens V ts) cut a) in
        let p = split xs (close ∷ []) f.others in
        suffixed_read least n ts (moved_suffixed refl (f.cut ∙ ap (λ z. f.token ∷ z) p.cut)
        (brackets_read b close n hb hc f.is (whole_expression 0 n p.front (read s p.left).whole) p.right))

pub reads_back_of : (V : Vocabulary) (x : Expr) (ws : Words) (ts : List Lexeme) → Spells V 0 (node_of x) ws → AreTokens V ts (expression_words x) → ReadsAs x ts
reads_back_of V x ws ts s a =
    let r = whole_expression 0 (node_of x) ts (read V (printed_spells V 0 0 x ws s) a).whole in
    record { value = r.value; is = r.is; same = r.same }

pub reads_back : PrintedIsRead
reads_back V most x ws ts s a =
    let r = whole_expression 0 (node_of x) ts (read V (printed_spells V 0 most x ws s) a).whole in
    record { value = r.value; is = r.is; same = r.same }
