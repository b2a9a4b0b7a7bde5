-- What is printed of an expression spells it.
use Rattle.std.proofs.Common.{ℕ, ◌+◌, ◌≤◌, ◌≡◌, Bool, true, false, List, [], ◌∷◌, ◌++◌, refl, sym, ◌∙◌, ap, subst, codes, arith}
use Rattle.std.specs.Prelude.{nat_lt}
use Rattle.std.proofs.lemmas.Bool.{ltb-false, ltb-true}
use Rattle.vd_base.specs.declared.ctype.CType.{CType, CType-F, out-CType, map-CType, fold_out-CType}
use Rattle.vd_base.specs.declared.ctype.CType.TheVariants as typ
use Rattle.vd_base.specs.declared.ctype.CType.TheVariants.{outs-Void, outs-Int, outs-Unsigned, outs-Lock, outs-Struct, outs-Pointer}
use Rattle.vd_clight.specs.declared.syntax.UnOp.TheVariants as unary
use Rattle.vd_clight.specs.declared.syntax.Expr.{Expr}
use Rattle.vd_clight.specs.declared.syntax.ExprNode.{ExprNode}
use Rattle.vd_clight.specs.declared.syntax.ExprNode.TheVariants as e
use Rattle.vd_clight.specs.Printed.{Words, Phrase, one, type_layer, type_words, number_text, operator_text, precedence, of_prefixes, of_suffixes, bracketed, phrase, operand}
use Rattle.vd_cgrammar.specs.declared.kind.Kind.{Kind}
use Rattle.vd_cgrammar.specs.declared.kind.Kind.TheVariants as k
use Rattle.vd_cgrammar.specs.declared.kind.Class.TheVariants as c
use Rattle.vd_cgrammar.specs.Kinds.{has}
use Rattle.vd_cgrammar.specs.Syntax.{simple_of, prefixed, measured, member_of, binary_of}
use Rattle.vd_cgrammar.specs.Precedence.{Vocabulary, text_of, has_text, SpellsType, simple, struct, pointer, Spells, bare, brackets, SpellsBare, number, name, prefix, cast, measure, binary, member, index, node_of, binds, PrintedSpells}
use Rattle.vd_cgrammar.proofs.PrintedPhrases.{alone, in_brackets, said, number_is, ident_is, unary_is, binary_is, cast_is, sizeof_is, alignof_is, field_is, arrow_is, index_is, deref_is, address_is}

-- ---- the words of each kind of token

pub prefix_words : (kind : Kind) → has c.Prefix kind ≡ true → (x : Expr) → phrase (prefixed kind x) ≡ said (text_of kind ∷ operand x of_prefixes) of_prefixes
prefix_words k.Minus h x = unary_is unary.Minus x
prefix_words k.Not h x = unary_is unary.Not x
prefix_words k.Tilde h x = unary_is unary.Invert x
prefix_words k.Star h x = deref_is x
prefix_words k.And h x = address_is x
prefix_words _ h x = cc

pub prefix_text_is : (kind : Kind) → has c.Prefix kind ≡ true → has_text (text_of kind) ≡ true
prefix_text_is k.Minus h = refl
prefix_text_is k.Not h = refl
prefix_text_is k.Tilde h = refl
prefix_text_is k.Star h = refl
prefix_text_is k.And h = refl
prefix_text_is _ h = cc

pub measure_words : (kind : Kind) → has c.Measure kind ≡ true → (t : CType) → phrase (measured kind t) ≡ said (text_of kind ∷ bracketed (type_words t)) of_prefixes
measure_words k.SizeOf h t = sizeof_is t
measure_words k.AlignOf h t = alignof_is t
measure_words _ h t = cc

pub measure_text_is : (kind : Kind) → has c.Measure kind ≡ true → has_text (text_of kind) ≡ true
measure_text_is k.SizeOf h = refl
measure_text_is k.AlignOf h = refl
measure_text_is _ h = cc

pub member_words : (kind : Kind) → has c.Member kind ≡ true → (x : Expr) (f : List ℕ) → phrase (member_of kind x f) ≡ said (operand x of_suffixes ++ text_of kind ∷ one f) of_suffixes
member_words k.Dot h x f = field_is x f
member_words k.Arrow h x f = arrow_is x f
member_words _ h x f = cc

pub member_text_is : (kind : Kind) → has c.Member kind ≡ true → has_text (text_of kind) ≡ true
member_text_is k.Dot h = refl
member_text_is k.Arrow h = refl
member_text_is _ h = cc

pub operator_words : (kind : Kind) → has c.Binary kind ≡ true → operator_text (binary_of kind) ≡ text_of kind
operator_words k.Or h = refl
operator_words k.Xor h = refl
operator_words k.And h = refl
operator_words k.Equal h = refl
operator_words k.NotEqual h = refl
operator_words k.Less h = refl
operator_words k.LessEqual h = refl
operator_words k.Greater h = refl
operator_words k.GreaterEqual h = refl
operator_words k.ShiftLeft h = refl
operator_words k.ShiftRight h = refl
operator_words k.Plus h = refl
operator_words k.Minus h = refl
operator_words k.Star h = refl
operator_words k.Slash h = refl
operator_words k.Percent h = refl
operator_words _ h = cc

pub operator_text_is : (kind : Kind) → has c.Binary kind ≡ true → has_text (text_of kind) ≡ true
operator_text_is k.Or h = refl
operator_text_is k.Xor h = refl
operator_text_is k.And h = refl
operator_text_is k.Equal h = refl
operator_text_is k.NotEqual h = refl
operator_text_is k.Less h = refl
operator_text_is k.LessEqual h = refl
operator_text_is k.Greater h = refl
operator_text_is k.GreaterEqual h = refl
operator_text_is k.ShiftLeft h = refl
operator_text_is k.ShiftRight h = refl
operator_text_is k.Plus h = refl
operator_text_is k.Minus h = refl
operator_text_is k.Star h = refl
operator_text_is k.Slash h = refl
operator_text_is k.Percent h = refl
operator_text_is _ h = cc

-- ---- types

type_is : (t : CType) (l : CType-F CType) → out-CType t ≡ l → type_words t ≡ type_layer (map-CType CType Words type_words l)
unfolding type_words
type_is t l h = fold_out-CType Words type_layer t ∙ ap (λ m. type_layer (map-CType CType Words type_words m)) h

pub simple_words : (kind : Kind) → has c.SimpleType kind ≡ true → type_words (simple_of kind) ≡ one (text_of kind)
simple_words k.Int h = type_is typ.Int _ outs-Int
simple_words k.Unsigned h = type_is typ.Unsigned _ outs-Unsigned
simple_words k.Lock h = type_is typ.Lock _ outs-Lock
simple_words k.Void h = type_is typ.Void _ outs-Void
simple_words _ h = cc

pub simple_text_is : (kind : Kind) → has c.SimpleType kind ≡ true → has_text (text_of kind) ≡ true
simple_text_is k.Int h = refl
simple_text_is k.Unsigned h = refl
simple_text_is k.Lock h = refl
simple_text_is k.Void h = refl
simple_text_is _ h = cc

pub struct_words : (w : List ℕ) → type_words (typ.Struct w) ≡ codes "struct" ∷ w ∷ []
struct_words w = type_is (typ.Struct w) _ (outs-Struct w)

pub pointer_words : (t : CType) → type_words (typ.Pointer t) ≡ type_words t ++ codes "*" ∷ []
pointer_words t = type_is (typ.Pointer t) _ (outs-Pointer t)

pub words_of : (n m : ExprNode) (p : Phrase) → n ≡ m → phrase m ≡ p → (phrase n).words ≡ p.words
words_of n m p h g = ap (λ q. (phrase q).words) h ∙ ap (λ q. q.words) g

module _ (V : Vocabulary) where
  pub printed_type : {t : CType} {ws : Words} → SpellsType V t ws → SpellsType V t (type_words t)
  printed_type (simple w h made cut) =
      let kind = V.kind_at w in
      let same = V.text_is kind (simple_text_is kind h) in
      simple (text_of kind) (ap (has c.SimpleType) same ∙ h) (made ∙ ap simple_of (sym same)) (ap type_words made ∙ simple_words kind h)
  printed_type (struct s w hs h made cut) = struct (codes "struct") w (V.text_is k.Struct refl) h made (ap type_words made ∙ struct_words w)
  printed_type (pointer to xs star hs s made cut) = pointer to (type_words to) (codes "*") (V.text_is k.Star refl) (printed_type s) made (ap type_words made ∙ pointer_words to)

  -- ---- expressions

  -- bare tokens, with the brackets that the place asks
  in_its_place : (x : Expr) (least : ℕ) → SpellsBare V (node_of x) (phrase (node_of x)).words → Spells V least (node_of x) (operand x least)
  in_its_place x least s = by_order (nat_lt (binds (node_of x)) least) refl
    where
      not_below : nat_lt (binds (node_of x)) least ≡ false → least ≤ binds (node_of x)
      not_below h = ltb-false (binds (node_of x)) least h

      by_order : (t : Bool) → nat_lt (binds (node_of x)) least ≡ t → Spells V least (node_of x) (operand x least)
      by_order true h =
          brackets (codes "(") (codes ")") (phrase (node_of x)).words (V.text_is k.LeftParen refl) (V.text_is k.RightParen refl) (bare (omega arith) s)
          (in_brackets x least (ltb-true (binds (node_of x)) least h))
      by_order false h = bare (not_below h) (subst (SpellsBare V (node_of x)) (sym (alone x least (not_below h))) s)

  mutual
    printed_bare : {n : ExprNode} {ws : Words} → SpellsBare V n ws → SpellsBare V n (phrase n).words
    printed_bare {n} (number w h made cut) =
        let v = V.value_at w in
        let u = V.unsigned_at w in
        let text = number_text v u in
        let same : e.Num v u ≡ e.Num (V.value_at text) (V.unsigned_at text) =
        ap (λ m. e.Num m u) (sym (V.value_is w h)) ∙ ap (λ m. e.Num (V.value_at text) m) (sym (V.unsigned_is w h)) in
        number text (V.number_is w h) (made ∙ same) (words_of n (e.Num v u) _ made (number_is v u))
    printed_bare {n} (name w h made cut) = name w h made (words_of n (e.Ident w) _ made (ident_is w))
    printed_bare {n} (prefix o x xs h s made cut) =
        let kind = V.kind_at o in
        let same = V.text_is kind (prefix_text_is kind h) in
        prefix (text_of kind) x (operand x of_prefixes) (ap (has c.Prefix) same ∙ h) (in_its_place x of_prefixes (bare_words s)) (made ∙ ap (λ q. prefixed q x) (sym same))
        (words_of n (prefixed kind x) _ made (prefix_words kind h x))
    printed_bare {n} (cast b close t ts x xs hb hc ht s made cut) =
        cast (codes "(") (codes ")") t (type_words t) x (operand x of_prefixes) (V.text_is k.LeftParen refl) (V.text_is k.RightParen refl) (printed_type ht)
        (in_its_place x of_prefixes (bare_words s)) made (words_of n (e.Cast t x) _ made (cast_is t x))
    printed_bare {n} (measure m b close t ts h hb hc ht made cut) =
        let kind = V.kind_at m in
        let same = V.text_is kind (measure_text_is kind h) in
        measure (text_of kind) (codes "(") (codes ")") t (type_words t) (ap (has c.Measure) same ∙ h) (V.text_is k.LeftParen refl) (V.text_is k.RightParen refl)
        (printed_type ht) (made ∙ ap (λ q. measured q t) (sym same)) (words_of n (measured kind t) _ made (measure_words kind h t))
    printed_bare {n} (binary o x y xs ys h s r made cut) =
        let kind = V.kind_at o in
        let same = V.text_is kind (operator_text_is kind h) in
        let p = precedence (binary_of kind) in
        let text = words_of n (e.Binary (binary_of kind) x y) _ made (binary_is (binary_of kind) x y)
        ∙ ap (λ w. operand x p ++ w ∷ operand y (p + 1)) (operator_words kind h) in
        binary (text_of kind) x y (operand x p) (operand y (p + 1)) (ap (has c.Binary) same ∙ h)
        (subst (λ q. Spells V (precedence (binary_of q)) (node_of x) (operand x p)) (sym same) (in_its_place x p (bare_words s)))
        (subst (λ q. Spells V (precedence (binary_of q) + 1) (node_of y) (operand y (p + 1))) (sym same) (in_its_place y (p + 1) (bare_words r)))
        (made ∙ ap (λ q. e.Binary (binary_of q) x y) (sym same)) text
    printed_bare {n} (member o f x xs h g s made cut) =
        let kind = V.kind_at o in
        let same = V.text_is kind (member_text_is kind h) in
        member (text_of kind) f x (operand x of_suffixes) (ap (has c.Member) same ∙ h) g (in_its_place x of_suffixes (bare_words s)) (made ∙ ap (λ q. member_of q x f) (sym same))
        (words_of n (member_of kind x f) _ made (member_words kind h x f))
    printed_bare {n} (index b close x y xs ys hb hc s r made cut) =
        index (codes "[") (codes "]") x y (operand x of_suffixes) (operand y 0) (V.text_is k.LeftBracket refl) (V.text_is k.RightBracket refl)
        (in_its_place x of_suffixes (bare_words s)) (in_its_place y 0 (bare_words r)) made (words_of n (e.Index x y) _ made (index_is x y))

    bare_words : {n : ExprNode} {most : ℕ} {ws : Words} → Spells V most n ws → SpellsBare V n (phrase n).words
    bare_words (bare h s) = printed_bare s
    bare_words (brackets b close xs hb hc s cut) = bare_words s

  printed_at : (x : Expr) (least : ℕ) {most : ℕ} {ws : Words} → Spells V most (node_of x) ws → Spells V least (node_of x) (operand x least)
  printed_at x least s = in_its_place x least (bare_words s)

pub printed_spells : PrintedSpells
printed_spells V least most x ws s = printed_at V x least s
