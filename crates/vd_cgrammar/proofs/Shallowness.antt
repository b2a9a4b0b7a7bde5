-- What is printed of an expression is nested no more deeply than any words that spell it.
use Rattle.std.proofs.Common.{ℕ, suc, ◌+◌, ◌-◌, ◌<◌, ◌≤◌, ◌≡◌, Bool, true, false, List, [], ◌∷◌, ◌++◌, refl, sym, ◌∙◌, ap, subst, codes, arith, append_assoc}
use Rattle.std.specs.Prelude.{nat_lt}
use Rattle.std.proofs.lemmas.Bool.{ltb-true}
use Rattle.vd_base.specs.declared.ctype.CType.{CType}
use Rattle.vd_clight.specs.declared.syntax.Expr.{Expr}
use Rattle.vd_clight.specs.declared.syntax.ExprNode.{ExprNode}
use Rattle.vd_clight.specs.declared.syntax.ExprNode.TheVariants as e
use Rattle.vd_clight.specs.Printed.{Words, type_words, number_text, precedence, of_prefixes, of_suffixes, phrase, operand, expression_words}
use Rattle.vd_cgrammar.specs.declared.depth.Depth.{Depth}
use Rattle.vd_cgrammar.specs.declared.kind.Kind.{Kind}
use Rattle.vd_cgrammar.specs.declared.kind.Kind.TheVariants as k
use Rattle.vd_cgrammar.specs.declared.kind.Class.TheVariants as c
use Rattle.vd_cgrammar.specs.Kinds.{has}
use Rattle.vd_cgrammar.specs.Nesting.{after}
use Rattle.vd_cgrammar.specs.Syntax.{prefixed, measured, member_of, binary_of}
use Rattle.vd_cgrammar.specs.Precedence.{Vocabulary, text_of, has_text, SpellsType, simple, struct, pointer, Spells, bare, brackets, SpellsBare, number, name, prefix, cast, measure, binary, member, index, node_of, binds}
use Rattle.vd_cgrammar.specs.Shallow.{nested, walked, Shallow, PrintedIsShallow}
use Rattle.vd_cgrammar.proofs.PrintedPhrases.{in_place, operand_is, number_is, ident_is, binary_is, cast_is, index_is}
use Rattle.vd_cgrammar.proofs.PrintedSpells.{prefix_words, prefix_text_is, measure_words, measure_text_is, member_words, member_text_is, operator_words, operator_text_is, simple_words, simple_text_is, struct_words, pointer_words, words_of}

-- the state behind an expression with so many operators
abbrev pub behind : Depth → ℕ → Depth
behind d n = record { brackets = d.brackets; operators = d.operators + n; is_opened = false }

pub record Below (d u : Depth) : Type 0 where
  pub fewer_brackets : d.brackets ≤ u.brackets
  pub fewer_operators : d.operators ≤ u.operators

-- the last token is `(`, where that is asked
abbrev pub IsAsked : Bool → Depth → Type 0
IsAsked true d = d.is_opened ≡ true
IsAsked false d = Unit {0}

-- ---- what one token counts

abbrev pub state : ℕ → ℕ → Bool → Depth
state b o f = record { brackets = b; operators = o; is_opened = f }

no_more : (b o : ℕ) → state b o false ≡ state b (o + 0) false
no_more b o = let h : o ≡ o + 0 = omega arith in ap (λ n. state b n false) h

one_more : (b o : ℕ) → state b (suc o) false ≡ state b (o + 1) false
one_more b o = let h : suc o ≡ o + 1 = omega arith in ap (λ n. state b n false) h

-- a token counts nothing, wherever it stands
CountsNone : Kind → Type 0
CountsNone kind = (b o : ℕ) (f : Bool) → after kind (state b o f) ≡ state b (o + 0) false

CountsOne : Kind → Type 0
CountsOne kind = (b o : ℕ) (f : Bool) → after kind (state b o f) ≡ state b (o + 1) false

name_none : (kind : Kind) → has c.AnyName kind ≡ true → CountsNone kind
unfolding CountsNone
name_none k.Name h b o true = no_more b o
name_none k.Name h b o false = no_more b o
name_none k.Own h b o true = no_more b o
name_none k.Own h b o false = no_more b o
name_none _ h b o f = cc

number_none : (kind : Kind) → has c.AnyNumber kind ≡ true → CountsNone kind
unfolding CountsNone
number_none k.Number h b o true = no_more b o
number_none k.Number h b o false = no_more b o
number_none k.Length h b o true = no_more b o
number_none k.Length h b o false = no_more b o
number_none _ h b o f = cc

measure_none : (kind : Kind) → has c.Measure kind ≡ true → CountsNone kind
unfolding CountsNone
measure_none k.SizeOf h b o true = no_more b o
measure_none k.SizeOf h b o false = no_more b o
measure_none k.AlignOf h b o true = no_more b o
measure_none k.AlignOf h b o false = no_more b o
measure_none _ h b o f = cc

prefix_one : (kind : Kind) → has c.Prefix kind ≡ true → CountsOne kind
unfolding CountsOne
prefix_one k.Minus h b o f = one_more b o
prefix_one k.Not h b o f = one_more b o
prefix_one k.Tilde h b o f = one_more b o
prefix_one k.Star h b o f = one_more b o
prefix_one k.And h b o f = one_more b o
prefix_one _ h b o f = cc

member_one : (kind : Kind) → has c.Member kind ≡ true → CountsOne kind
unfolding CountsOne
member_one k.Dot h b o f = one_more b o
member_one k.Arrow h b o f = one_more b o
member_one _ h b o f = cc

binary_one : (kind : Kind) → has c.Binary kind ≡ true → CountsOne kind
unfolding CountsOne
binary_one k.Or h b o f = one_more b o
binary_one k.Xor h b o f = one_more b o
binary_one k.And h b o f = one_more b o
binary_one k.Equal h b o f = one_more b o
binary_one k.NotEqual h b o f = one_more b o
binary_one k.Less h b o f = one_more b o
binary_one k.LessEqual h b o f = one_more b o
binary_one k.Greater h b o f = one_more b o
binary_one k.GreaterEqual h b o f = one_more b o
binary_one k.ShiftLeft h b o f = one_more b o
binary_one k.ShiftRight h b o f = one_more b o
binary_one k.Plus h b o f = one_more b o
binary_one k.Minus h b o f = one_more b o
binary_one k.Star h b o f = one_more b o
binary_one k.Slash h b o f = one_more b o
binary_one k.Percent h b o f = one_more b o
binary_one _ h b o f = cc

simple_one : (kind : Kind) → has c.SimpleType kind ≡ true → (b o : ℕ) → after kind (state b o true) ≡ state b (o + 1) false
simple_one k.Int h b o = one_more b o
simple_one k.Unsigned h b o = one_more b o
simple_one k.Lock h b o = one_more b o
simple_one k.Void h b o = one_more b o
simple_one _ h b o = cc

module _ (V : Vocabulary) where
  pub walked_append : (d : Depth) (xs ys : Words) → walked V d (xs ++ ys) ≡ walked V (walked V d xs) ys
  walked_append d [] ys = refl
  walked_append d (x ∷ xs) ys = walked_append (after (V.kind_at x) d) xs ys

  pub shallow_parts : (most : ℕ) (d : Depth) (xs ys : Words) → Shallow V most d (xs ++ ys) → Shallow V most d xs × Shallow V most (walked V d xs) ys
  shallow_parts most d [] ys h = (tt, h)
  shallow_parts most d (x ∷ xs) ys h = let p = shallow_parts most (after (V.kind_at x) d) xs ys h.1 in ((h.0, p.0), p.1)

  pub shallow_both : (most : ℕ) (d : Depth) (xs ys : Words) → Shallow V most d xs → Shallow V most (walked V d xs) ys → Shallow V most d (xs ++ ys)
  shallow_both most d [] ys h g = g
  shallow_both most d (x ∷ xs) ys h g = (h.0, shallow_both most (after (V.kind_at x) d) xs ys h.1 g)

  -- The first words and the second count the same, and the second are nested no more deeply, from no deeper on.
  pub record Prints (asked : Bool) (ws us : Words) (count : ℕ) : Type 0 where
    pub walks : (d : Depth) → IsAsked asked d → walked V d ws ≡ behind d count
    pub prints : (d : Depth) → IsAsked asked d → walked V d us ≡ behind d count
    pub shallow : (most : ℕ) (d u : Depth) → IsAsked asked d → IsAsked asked u → Below u d → Shallow V most d ws → Shallow V most u us

  below_behind : (d u : Depth) (n : ℕ) → Below u d → Below (behind u n) (behind d n)
  below_behind d u n h = record { fewer_brackets = h.fewer_brackets; fewer_operators = omega (arith, h.fewer_operators) }

  append_counts : (d : Depth) (m n : ℕ) → behind (behind d m) n ≡ behind d (m + n)
  append_counts d m n = let h : d.operators + m + n ≡ d.operators + (m + n) = omega arith in ap (λ z. state d.brackets z false) h

  both_parts : {asked : Bool} {ws us xs ys : Words} {m n : ℕ} → Prints asked ws us m → Prints false xs ys n → Prints asked (ws ++ xs) (us ++ ys) (m + n)
  both_parts {asked} {ws} {us} {xs} {ys} {m} {n} p q = record {
    walks = λ d f. walked_append d ws xs ∙ (ap (λ z. walked V z xs) (p.walks d f) ∙ (q.walks (behind d m) tt ∙ append_counts d m n));
    prints = λ d f. walked_append d us ys ∙ (ap (λ z. walked V z ys) (p.prints d f) ∙ (q.prints (behind d m) tt ∙ append_counts d m n));
    shallow = λ most d u f g h s.
        let parts = shallow_parts most d ws xs s in
        shallow_both most u us ys (p.shallow most d u f g h parts.0)
        (subst (λ z. Shallow V most z ys) (sym (p.prints u g))
        (q.shallow most (behind d m) (behind u m) tt tt (below_behind d u m h) (subst (λ z. Shallow V most z xs) (p.walks d f) parts.1)));
  }

  -- one token, which counts the same
  token_prints : (asked : Bool) (w u : List ℕ) (n : ℕ) → ((d : Depth) → IsAsked asked d → after (V.kind_at w) d ≡ behind d n) → ((d : Depth) → IsAsked asked d → after (V.kind_at u) d ≡ behind d n)
      → Prints asked (w ∷ []) (u ∷ []) n
  token_prints asked w u n h g = record {
    walks = h;
    prints = g;
    shallow = λ most d e f i below s.
        let first : nested (behind d n) < most = subst (λ z. nested z < most) (h d f) s.0 in
        let next : nested (behind e n) < most = omega (arith, first, below.fewer_brackets, below.fewer_operators) in
        (subst (λ z. nested z < most) (sym (g e i)) next, tt);
  }

  -- a token in the place of another of its kind
  same_token : (w : List ℕ) (kind : Kind) (n : ℕ) → ((b o : ℕ) (f : Bool) → after kind (state b o f) ≡ state b (o + n) false) → V.kind_at w ≡ kind
      → has_text (text_of kind) ≡ true → Prints false (w ∷ []) (text_of kind ∷ []) n
  same_token w kind n h same t =
      token_prints false w (text_of kind) n (λ d f. ap (λ q. after q d) same ∙ h d.brackets d.operators d.is_opened)
      (λ d f. ap (λ q. after q d) (V.text_is kind t) ∙ h d.brackets d.operators d.is_opened)

  abbrev opened : Depth → Depth
  opened d = state (suc d.brackets) d.operators true

  open_is : (b : List ℕ) → V.kind_at b ≡ k.LeftParen → (d : Depth) → after (V.kind_at b) d ≡ opened d
  open_is b h d = ap (λ q. after q d) h ∙ by_flag d.brackets d.operators d.is_opened
    where
      by_flag : (m n : ℕ) (f : Bool) → after k.LeftParen (state m n f) ≡ state (suc m) n true
      by_flag m n true = refl
      by_flag m n false = refl

  one_less : (d : Depth) (o : ℕ) → state (suc d.brackets - 1) o false ≡ state d.brackets o false
  one_less d o = let h : suc d.brackets - 1 ≡ d.brackets = omega arith in ap (λ z. state z o false) h

  close_is : (close : List ℕ) → V.kind_at close ≡ k.RightParen → (d : Depth) (n : ℕ) → after (V.kind_at close) (behind (opened d) n) ≡ behind d n
  close_is close h d n = ap (λ q. after q (behind (opened d) n)) h ∙ one_less d (d.operators + n)

  flag : (asked : Bool) (d : Depth) → IsAsked asked (opened d)
  flag true d = refl
  flag false d = tt

  below_opened : (d u : Depth) → Below u d → Below (opened u) (opened d)
  below_opened d u h = record { fewer_brackets = omega (arith, h.fewer_brackets); fewer_operators = h.fewer_operators }

  -- what is counted behind words in round brackets
  bracketed_walk : (asked : Bool) (ws : Words) (n : ℕ) (b close : List ℕ) → V.kind_at b ≡ k.LeftParen → V.kind_at close ≡ k.RightParen
      → ((d : Depth) → IsAsked asked d → walked V d ws ≡ behind d n) → (d : Depth) → walked V d (b ∷ ws ++ close ∷ []) ≡ behind d n
  bracketed_walk asked ws n b close hb hc w d =
      ap (λ z. walked V z (ws ++ close ∷ [])) (open_is b hb d) ∙ (walked_append (opened d) ws (close ∷ [])
      ∙ (ap (λ z. after (V.kind_at close) z) (w (opened d) (flag asked d)) ∙ close_is close hc d n))

  -- the words in round brackets are nested within
  inner_shallow : (most : ℕ) (d : Depth) (ws : Words) (b close : List ℕ) → V.kind_at b ≡ k.LeftParen → Shallow V most d (b ∷ ws ++ close ∷ [])
      → (nested (opened d) < most) × Shallow V most (opened d) ws × Shallow V most (walked V (opened d) ws) (close ∷ [])
  inner_shallow most d ws b close hb s =
      let parts = shallow_parts most (opened d) ws (close ∷ []) (subst (λ z. Shallow V most z (ws ++ close ∷ [])) (open_is b hb d) s.1) in
      (subst (λ z. nested z < most) (open_is b hb d) s.0, parts.0, parts.1)

  -- round brackets round both
  brackets_prints : {asked : Bool} {ws us : Words} {n : ℕ} (b close : List ℕ) → V.kind_at b ≡ k.LeftParen → V.kind_at close ≡ k.RightParen → Prints asked ws us n
      → Prints false (b ∷ ws ++ close ∷ []) (codes "(" ∷ us ++ codes ")" ∷ []) n
  brackets_prints {asked} {ws} {us} {n} b close hb hc p = record {
    walks = λ d f. bracketed_walk asked ws n b close hb hc p.walks d;
    prints = λ d f. bracketed_walk asked us n (codes "(") (codes ")") (V.text_is k.LeftParen refl) (V.text_is k.RightParen refl) p.prints d;
    shallow = λ most d u f g h s.
        let parts = inner_shallow most d ws b close hb s in
        let first : nested (opened d) < most = parts.0 in
        let next : nested (opened u) < most = omega (arith, first, h.fewer_brackets, h.fewer_operators) in
        let inner = p.shallow most (opened d) (opened u) (flag asked d) (flag asked u) (below_opened d u h) parts.1 in
        let last : nested (behind d n) < most =
        subst (λ z. nested z < most) (ap (λ z. after (V.kind_at close) z) (p.walks (opened d) (flag asked d)) ∙ close_is close hc d n) parts.2.0 in
        let end : nested (behind u n) < most = omega (arith, last, h.fewer_brackets, h.fewer_operators) in (
          subst (λ z. nested z < most) (sym (open_is (codes "(") (V.text_is k.LeftParen refl) u)) next,
          subst (λ z. Shallow V most z (us ++ codes ")" ∷ [])) (sym (open_is (codes "(") (V.text_is k.LeftParen refl) u))
              (shallow_both most (opened u) us (codes ")" ∷ []) inner
              (subst (λ z. nested z < most) (sym (ap (λ z. after (V.kind_at (codes ")")) z) (p.prints (opened u) (flag asked u)) ∙ close_is (codes ")") (V.text_is k.RightParen refl) u n)) end, tt)),
        );
  }

  -- round brackets round the first alone
  dropped_prints : {ws us : Words} {n : ℕ} (b close : List ℕ) → V.kind_at b ≡ k.LeftParen → V.kind_at close ≡ k.RightParen → Prints false ws us n → Prints false (b ∷ ws ++ close ∷ []) us n
  dropped_prints {ws} {us} {n} b close hb hc p = record {
    walks = λ d f. bracketed_walk false ws n b close hb hc p.walks d;
    prints = p.prints;
    shallow = λ most d u f g h s.
        p.shallow most (opened d) u tt tt (record { fewer_brackets = omega (arith, h.fewer_brackets); fewer_operators = h.fewer_operators }) (inner_shallow most d ws b close hb s).1;
  }

  abbrev indexed : Depth → Depth
  indexed d = state (suc d.brackets) (suc d.operators) false

  closed_is : (close : List ℕ) → V.kind_at close ≡ k.RightBracket → (d : Depth) (n : ℕ) → after (V.kind_at close) (behind (indexed d) n) ≡ behind d (1 + n)
  closed_is close h d n =
      let more : suc d.operators + n ≡ d.operators + (1 + n) = omega arith in
      ap (λ q. after q (behind (indexed d) n)) h ∙ (one_less d (suc d.operators + n) ∙ ap (λ z. state d.brackets z false) more)

  -- an index in its brackets
  square_prints : {ws us : Words} {n : ℕ} (b close : List ℕ) → V.kind_at b ≡ k.LeftBracket → V.kind_at close ≡ k.RightBracket → Prints false ws us n
      → Prints false (b ∷ ws ++ close ∷ []) (codes "[" ∷ us ++ codes "]" ∷ []) (1 + n)
  square_prints {ws} {us} {n} b close hb hc p =
      let left = V.text_is k.LeftBracket refl in
      let right = V.text_is k.RightBracket refl in
      record {
        walks = λ d f. ap (λ q. walked V (after q d) (ws ++ close ∷ [])) hb ∙ (walked_append (indexed d) ws (close ∷ [])
            ∙ (ap (λ z. after (V.kind_at close) z) (p.walks (indexed d) tt) ∙ closed_is close hc d n));
        prints = λ d f. ap (λ q. walked V (after q d) (us ++ codes "]" ∷ [])) left ∙ (walked_append (indexed d) us (codes "]" ∷ [])
            ∙ (ap (λ z. after (V.kind_at (codes "]")) z) (p.prints (indexed d) tt) ∙ closed_is (codes "]") right d n));
        shallow = λ most d u f g h s.
            let first : nested (indexed d) < most = subst (λ q. nested (after q d) < most) hb s.0 in
            let next : nested (indexed u) < most = omega (arith, first, h.fewer_brackets, h.fewer_operators) in
            let parts = shallow_parts most (indexed d) ws (close ∷ []) (subst (λ q. Shallow V most (after q d) (ws ++ close ∷ [])) hb s.1) in
            let inner = p.shallow most (indexed d) (indexed u) tt tt (record { fewer_brackets = omega (arith, h.fewer_brackets); fewer_operators = omega (arith, h.fewer_operators) }) parts.0 in
            let last : nested (behind d (1 + n)) < most = subst (λ z. nested z < most) (ap (λ z. after (V.kind_at close) z) (p.walks (indexed d) tt) ∙ closed_is close hc d n) parts.1.0 in
            let end : nested (behind u (1 + n)) < most = omega (arith, last, h.fewer_brackets, h.fewer_operators) in (
              subst (λ q. nested (after q u) < most) (sym left) next,
              subst (λ q. Shallow V most (after q u) (us ++ codes "]" ∷ [])) (sym left)
                  (shallow_both most (indexed u) us (codes "]" ∷ []) inner
                  (subst (λ z. nested z < most) (sym (ap (λ z. after (V.kind_at (codes "]")) z) (p.prints (indexed u) tt) ∙ closed_is (codes "]") right u n)) end, tt)),
            );
      }

  -- ---- types and expressions

  pub record PrintsSome (asked : Bool) (ws us : Words) : Type 0 where
    pub count : ℕ
    pub prints : Prints asked ws us count

  some : {asked : Bool} {ws us xs ys : Words} {n : ℕ} → ws ≡ xs → us ≡ ys → Prints asked xs ys n → PrintsSome asked ws us
  some {asked} {ws} {us} {xs} {ys} {n} h g p = record { count = n; prints = subst (λ z. Prints asked z us n) (sym h) (subst (λ z. Prints asked xs z n) (sym g) p) }

  named : (w : List ℕ) → has c.AnyName (V.kind_at w) ≡ true → Prints false (w ∷ []) (w ∷ []) 0
  unfolding CountsNone
  named w h =
      let one = λ (d : Depth) (f : Unit {0}). name_none (V.kind_at w) h d.brackets d.operators d.is_opened in
      token_prints false w w 0 one one

  type_token : (w : List ℕ) (kind : Kind) → V.kind_at w ≡ kind → has_text (text_of kind) ≡ true
      → ((b o : ℕ) → after kind (state b o true) ≡ state b (o + 1) false) → Prints true (w ∷ []) (text_of kind ∷ []) 1
  type_token w kind same t h =
      let one = λ (d : Depth) (f : d.is_opened ≡ true). ap (λ q. after kind (state d.brackets d.operators q)) f ∙ h d.brackets d.operators in
      token_prints true w (text_of kind) 1 (λ d f. ap (λ q. after q d) same ∙ one d f) (λ d f. ap (λ q. after q d) (V.text_is kind t) ∙ one d f)

  type_prints : {t : CType} {ws : Words} → SpellsType V t ws → PrintsSome true ws (type_words t)
  type_prints (simple w h made cut) =
      let kind = V.kind_at w in
      some cut (ap type_words made ∙ simple_words kind h) (type_token w kind refl (simple_text_is kind h) (simple_one kind h))
  type_prints (struct s w hs h made cut) = some cut (ap type_words made ∙ struct_words w) (both_parts (type_token s k.Struct hs refl one_more) (named w h))
  type_prints (pointer to xs star hs s made cut) =
      some cut (ap type_words made ∙ pointer_words to) (both_parts (type_prints s).prints (same_token star k.Star 1 (λ b o f. one_more b o) hs refl))

  in_words : (n : ExprNode) (least : ℕ) → least ≤ binds n → in_place (phrase n) least ≡ (phrase n).words
  in_words n least h = by_test (nat_lt (binds n) least) refl
    where
      by_test : (t : Bool) → nat_lt (binds n) least ≡ t → in_place (phrase n) least ≡ (phrase n).words
      by_test true g = absurd (omega (arith, h, ltb-true (binds n) least g))
      by_test false g = rw g refl

  around : (n : ExprNode) (least : ℕ) (b close : List ℕ) (xs : Words) → V.kind_at b ≡ k.LeftParen → V.kind_at close ≡ k.RightParen → PrintsSome false xs (phrase n).words
      → PrintsSome false (b ∷ xs ++ close ∷ []) (in_place (phrase n) least)
  around n least b close xs hb hc p = by_test (nat_lt (binds n) least) refl
    where
      by_test : (t : Bool) → nat_lt (binds n) least ≡ t → PrintsSome false (b ∷ xs ++ close ∷ []) (in_place (phrase n) least)
      by_test true g = some refl (rw g refl) (brackets_prints b close hb hc p.prints)
      by_test false g = some refl (rw g refl) (dropped_prints b close hb hc p.prints)

  at_operand : (x : Expr) (least : ℕ) (ws : Words) → PrintsSome false ws (in_place (phrase (node_of x)) least) → PrintsSome false ws (operand x least)
  at_operand x least ws p = some refl (ap (λ f. f least) (operand_is x)) p.prints

  mutual
    unfolding CountsNone CountsOne

    bare_prints : {n : ExprNode} {ws : Words} → SpellsBare V n ws → PrintsSome false ws (phrase n).words
    bare_prints {n} (number w h made cut) =
        let text = number_text (V.value_at w) (V.unsigned_at w) in
        some cut (words_of n (e.Num (V.value_at w) (V.unsigned_at w)) _ made (number_is (V.value_at w) (V.unsigned_at w)))
        (token_prints false w text 0 (λ d f. number_none (V.kind_at w) h d.brackets d.operators d.is_opened)
        (λ d f. number_none (V.kind_at text) (V.number_is w h) d.brackets d.operators d.is_opened))
    bare_prints {n} (name w h made cut) = some cut (words_of n (e.Ident w) _ made (ident_is w)) (named w h)
    bare_prints {n} (prefix o x xs h s made cut) =
        let kind = V.kind_at o in
        some cut (words_of n (prefixed kind x) _ made (prefix_words kind h x))
        (both_parts (same_token o kind 1 (prefix_one kind h) refl (prefix_text_is kind h)) (at_operand x of_prefixes xs (place_prints s)).prints)
    bare_prints {n} (cast b close t ts x xs hb hc ht s made cut) =
        some (cut ∙ sym (append_assoc (b ∷ ts) (close ∷ []) xs))
        (words_of n (e.Cast t x) _ made (cast_is t x) ∙ sym (append_assoc (codes "(" ∷ type_words t) (codes ")" ∷ []) (operand x of_prefixes)))
        (both_parts (brackets_prints b close hb hc (type_prints ht).prints) (at_operand x of_prefixes xs (place_prints s)).prints)
    bare_prints {n} (measure m b close t ts h hb hc ht made cut) =
        let kind = V.kind_at m in
        some cut (words_of n (measured kind t) _ made (measure_words kind h t))
        (both_parts (same_token m kind 0 (measure_none kind h) refl (measure_text_is kind h)) (brackets_prints b close hb hc (type_prints ht).prints))
    bare_prints {n} (binary o x y xs ys h s r made cut) =
        let kind = V.kind_at o in
        let p = precedence (binary_of kind) in
        some (cut ∙ sym (append_assoc xs (o ∷ []) ys))
        (words_of n (e.Binary (binary_of kind) x y) _ made (binary_is (binary_of kind) x y) ∙ (ap (λ w. operand x p ++ w ∷ operand y (p + 1)) (operator_words kind h)
        ∙ sym (append_assoc (operand x p) (text_of kind ∷ []) (operand y (p + 1)))))
        (both_parts (both_parts (at_operand x p xs (place_prints s)).prints (same_token o kind 1 (binary_one kind h) refl (operator_text_is kind h))) (at_operand y (p + 1) ys (place_prints r)).prints)
    bare_prints {n} (member o f x xs h g s made cut) =
        let kind = V.kind_at o in
        some (cut ∙ sym (append_assoc xs (o ∷ []) (f ∷ [])))
        (words_of n (member_of kind x f) _ made (member_words kind h x f) ∙ sym (append_assoc (operand x of_suffixes) (text_of kind ∷ []) (f ∷ [])))
        (both_parts (both_parts (at_operand x of_suffixes xs (place_prints s)).prints (same_token o kind 1 (member_one kind h) refl (member_text_is kind h))) (named f g))
    bare_prints {n} (index b close x y xs ys hb hc s r made cut) =
        some (cut ∙ append_assoc xs (b ∷ ys) (close ∷ []))
        (words_of n (e.Index x y) _ made (index_is x y) ∙ append_assoc (operand x of_suffixes) (codes "[" ∷ operand y 0) (codes "]" ∷ []))
        (both_parts (at_operand x of_suffixes xs (place_prints s)).prints (square_prints b close hb hc (at_operand y 0 ys (place_prints r)).prints))

    place_prints : {least : ℕ} {n : ExprNode} {ws : Words} → Spells V least n ws → PrintsSome false ws (in_place (phrase n) least)
    place_prints {least} {n} (bare h s) = some refl (in_words n least h) (bare_prints s).prints
    place_prints {least} {n} {ws} (brackets b close xs hb hc s cut) =
        let p = place_prints s in
        some cut refl (around n least b close xs hb hc (some refl (sym (in_words n 0 (omega arith))) p.prints)).prints

-- what is printed of an expression counts the same as any words that spell it
pub expression_prints : (V : Vocabulary) (x : Expr) (ws : Words) → Spells V 0 (node_of x) ws → PrintsSome V false ws (expression_words x)
expression_prints V x ws s = at_operand V x 0 ws (place_prints V s)

pub printed_is_shallow : PrintedIsShallow
printed_is_shallow V x ws most d s h = (expression_prints V x ws s).prints.shallow most d d tt tt (record { fewer_brackets = omega arith; fewer_operators = omega arith }) h
