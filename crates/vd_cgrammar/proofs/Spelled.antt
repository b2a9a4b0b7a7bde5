-- What is read as an expression spells it, by the precedence of C.
use Rattle.std.proofs.Common.{Some, ℕ, zero, suc, ◌<◌, ◌≤◌, ◌≡◌, Bool, true, false, List, [], ◌∷◌, ◌++◌, refl, sym, ◌∙◌, ap, subst, arith, append_assoc}
use Rattle.std.specs.Prelude.{◌==◌}
use Rattle.std.proofs.lemmas.Bool.{eqb-true, eqb-false}
use Rattle.std.proofs.lemmas.List.{append-nil, map-append}
use Rattle.vd_base.specs.declared.ctype.CType.{CType}
use Rattle.vd_base.specs.declared.ctype.CType.TheVariants as typ
use Rattle.vd_clight.specs.declared.syntax.Expr.{Expr, out-Expr}
use Rattle.vd_clight.specs.declared.syntax.ExprNode.{ExprNode}
use Rattle.vd_clight.specs.declared.syntax.ExprNode.TheVariants as e
use Rattle.vd_clight.specs.Printed.{Words, precedence, of_prefixes, of_suffixes}
use Rattle.vd_cgrammar.specs.declared.kind.Kind.{Kind}
use Rattle.vd_cgrammar.specs.declared.kind.Kind.TheVariants as k
use Rattle.vd_cgrammar.specs.declared.kind.Class.TheVariants as c
use Rattle.vd_cgrammar.specs.declared.parts.Postfix.{Postfix}
use Rattle.vd_cgrammar.specs.declared.parts.Postfix.TheVariants as postfix
use Rattle.vd_cgrammar.specs.declared.parts.Enclosed.{Enclosed}
use Rattle.vd_cgrammar.specs.declared.parts.Enclosed.TheVariants as enclosed
use Rattle.vd_cgrammar.specs.Kinds.{has, kind_number}
use Rattle.vd_cgrammar.specs.Syntax.{at, simple_of, pointers, prefixed, measured, member_of, behind, in_brackets, binary_of, level_of, operated, pass, passes, levels, grouped}
use Rattle.vd_cgrammar.specs.Precedence.{Vocabulary, SpellsType, simple, struct, pointer, Spells, bare, brackets, SpellsBare, number, name, prefix, cast, measure, binary, member, index, node_of, binds}
use Rattle.vd_cgrammar.specs.Lexeme.{Lexeme}
use Rattle.vd_cgrammar.specs.Grammar.{Sort, Value, Rule, grammar, Expression, Operations, Unary, Plain, AfterParen, Postfixes, Type_, Stars}
use Rattle.vd_cgrammar.specs.Derivations.{ByRules, all_are}
use Rattle.vd_cgrammar.specs.Standing.{IsToken, none, next, spellings, AreRead, ReadIsSpelled, ExpressionsReadBack}
use Rattle.vd_grammar.specs.Grammar.{Is}
use Rattle.vd_grammar.specs.Tables.{nth}
use Rattle.vd_cgrammar.specs.Laws.{kinds, kind_listed}
use Rattle.vd_cgrammar.proofs.SameNodes.{node_at}
use Rattle.vd_cgrammar.proofs.PrintedPhrases.{number_is, ident_is, binary_is, cast_is, index_is}
use Rattle.vd_cgrammar.proofs.PrintedSpells.{prefix_words, measure_words, member_words}
use Rattle.vd_cgrammar.proofs.ReadingBack.{level_is, level_below, reads_back_of}

module _ (V : Vocabulary) where
  lower : {k m : ℕ} {n : ExprNode} {ws : Words} → k ≤ m → Spells V m n ws → Spells V k n ws
  lower g (bare h s) = bare (omega (arith, g, h)) s
  lower g (brackets b close xs hb hc s cut) = brackets b close xs hb hc s cut

  -- Operators that bind less tightly than the number, each with an operand that binds so tightly.
  pub data Rest (q : ℕ) : Words → List (Kind × Expr) → Type 0 where
    nothing : {ws : Words} → ws ≡ [] → Rest q ws []
    operation : {kind : Kind} {x : Expr} {ws : Words} {os : List (Kind × Expr)} (o : List ℕ) (xs ys : Words) → V.kind_at o ≡ kind → has c.Binary kind ≡ true → suc (level_of kind) < q
        → Spells V q (node_of x) xs → Rest q ys os → ws ≡ o ∷ (xs ++ ys) → Rest q ws ((kind, x) ∷ os)

  -- an operand, and the operators behind it
  record Passed (q : ℕ) (y : Expr × List (Kind × Expr)) (ws : Words) : Type 0 where
    left : Words
    right : Words
    cut : ws ≡ left ++ right
    operand : Spells V q (node_of y.0) left
    others : Rest q right y.1

  pass_own : (n : ℕ) (x : Expr) (o : Kind × Expr) (os : List (Kind × Expr)) → (level_of o.0 == n) ≡ true → pass n x (o ∷ os) ≡ pass n (operated o.0 x o.1) os
  pass_own n x o os h = rw h refl

  pass_other : (n : ℕ) (x : Expr) (o : Kind × Expr) (os : List (Kind × Expr)) → (level_of o.0 == n) ≡ false → pass n x (o ∷ os) ≡ (x, (o.0, (pass n o.1 os).0) ∷ (pass n o.1 os).1)
  pass_other n x o os h = rw h refl

  -- an operator with its operands
  operated_spells : (level : ℕ) (x y : Expr) (kind : Kind) (o : List ℕ) (xs ys : Words) → V.kind_at o ≡ kind → has c.Binary kind ≡ true → level_of kind ≡ level
      → Spells V (suc level) (node_of x) xs → Spells V (suc (suc level)) (node_of y) ys → Spells V (suc level) (node_of (operated kind x y)) (xs ++ o ∷ ys)
  operated_spells level x y kind o xs ys hk hb l s r =
      let n = e.Binary (binary_of kind) x y in
      let at_o : precedence (binary_of (V.kind_at o)) ≡ suc level = ap (λ q. precedence (binary_of q)) hk ∙ (level_is V kind hb ∙ ap suc l) in
      let strength : binds n ≡ suc level = ap (λ p. p.strength_of) (binary_is (binary_of kind) x y) ∙ (level_is V kind hb ∙ ap suc l) in
      let whole = binary o x y xs ys (ap (has c.Binary) hk ∙ hb) (lower (omega (arith, at_o)) s) (lower (omega (arith, at_o)) r) (ap (λ q. e.Binary (binary_of q) x y) (sym hk)) refl in
      subst (λ m. Spells V (suc level) m (xs ++ o ∷ ys)) (sym (node_at (out-Expr x).place n)) (bare (omega (arith, strength)) whole)

  pass_spells : (level : ℕ) (x : Expr) {os : List (Kind × Expr)} (ws : Words) {zs : Words} → Spells V (suc level) (node_of x) ws → Rest (suc (suc level)) zs os
      → Passed (suc level) (pass level x os) (ws ++ zs)
  pass_spells level x ws {zs} s (nothing cut) = record { left = ws; right = []; cut = ap (λ z. ws ++ z) cut; operand = s; others = nothing refl }
  pass_spells level x {os = _} ws {zs} s (operation {kind = kind} {x = y} {os = os} o xs ys hk hb low r others cut) =
      by_level (level_of kind == level) refl
      (λ h. pass_spells level (operated kind x y) (ws ++ o ∷ xs) (operated_spells level x y kind o ws xs hk hb (eqb-true (level_of kind) level h) s r) others)
      (pass_spells level y xs (lower (omega arith) r) others)
    where
      by_level : (t : Bool) → (level_of kind == level) ≡ t
          → ((level_of kind == level) ≡ true → Passed (suc level) (pass level (operated kind x y) os) ((ws ++ o ∷ xs) ++ ys))
          → Passed (suc level) (pass level y os) (xs ++ ys) → Passed (suc level) (pass level x ((kind, y) ∷ os)) (ws ++ zs)
      by_level true h ih other =
          subst (λ z. Passed (suc level) z (ws ++ zs)) (sym (pass_own level x (kind, y) os h))
          (subst (Passed (suc level) (pass level (operated kind x y) os)) (append_assoc ws (o ∷ xs) ys ∙ ap (λ z. ws ++ z) (sym cut)) (ih h))
      by_level false h ih other =
          subst (λ z. Passed (suc level) z (ws ++ zs)) (sym (pass_other level x (kind, y) os h)) (record {
            left = ws;
            right = zs;
            cut = refl;
            operand = s;
            others = operation o other.left other.right hk hb (omega (arith, low, eqb-false (level_of kind) level h)) other.operand other.others (cut ∙ ap (λ z. o ∷ z) other.cut);
          })

  none_left : (ws : Words) (os : List (Kind × Expr)) → Rest 1 ws os → ws ≡ []
  none_left ws _ (nothing cut) = cut
  none_left ws _ (operation o xs ys hk hb low s r cut) = absurd (omega (arith, low))

  passes_spell : (n : ℕ) (x : Expr) {os : List (Kind × Expr)} (ws : Words) {zs : Words} → Spells V (suc n) (node_of x) ws → Rest (suc n) zs os
      → Spells V 0 (node_of (passes n x os).0) (ws ++ zs)
  passes_spell zero x {os} ws {zs} s r = subst (Spells V 0 (node_of x)) (sym (append-nil ws) ∙ ap (λ z. ws ++ z) (sym (none_left zs os r))) (lower (omega arith) s)
  passes_spell (suc n) x {os} ws {zs} s r =
      let p = pass_spells n x ws (lower (omega arith) s) r in
      subst (Spells V 0 (node_of (passes n (pass n x os).0 (pass n x os).1).0)) (sym p.cut) (passes_spell n (pass n x os).0 p.left p.operand p.others)

  pub grouped_spells : (x : Expr) {os : List (Kind × Expr)} (ws : Words) {zs : Words} → Spells V of_prefixes (node_of x) ws → Rest of_prefixes zs os → Spells V 0 (node_of (grouped x os)) (ws ++ zs)
  unfolding grouped
  grouped_spells x ws s r = passes_spell levels x ws s r

  -- ---- tokens that are read

  pub parts_read : (xs ys : List Lexeme) → AreRead V (xs ++ ys) → AreRead V xs × AreRead V ys
  parts_read [] ys a = (none, a)
  parts_read (x ∷ xs) ys (next i a) = let p = parts_read xs ys a in (next i p.0, p.1)

  spelled : (xs ys : List Lexeme) → spellings (xs ++ ys) ≡ spellings xs ++ spellings ys
  spelled xs ys = map-append (λ t. t.spelling) xs ys

  -- the kind that a class of one takes
  pub only : (kind one : Kind) → has (c.One one) kind ≡ true → kind ≡ one
  only kind one h =
      let same_number : kind_number one ≡ kind_number kind = eqb-true (kind_number one) (kind_number kind) h in
      same_some (sym (kind_listed kind) ∙ (ap (nth kinds) (sym same_number) ∙ kind_listed one))
    where
      same_some : {a b : Kind} → Some a ≡ Some b → a ≡ b
      same_some g = cc

  -- what is shown of each sort
  Shown : (S : Sort) → List Lexeme → Value S → Type 0
  Shown Expression ts x = AreRead V ts → Spells V 0 (node_of x) (spellings ts)
  Shown Operations ts os = AreRead V ts → Rest of_prefixes (spellings ts) os
  Shown Unary ts x = AreRead V ts → Spells V of_prefixes (node_of x) (spellings ts)
  Shown Plain ts x = AreRead V ts → Spells V of_prefixes (node_of x) (spellings ts)
  Shown AfterParen ts x = AreRead V ts → (b : Lexeme) → IsToken V b b.spelling → b.kind ≡ k.LeftParen → Spells V of_prefixes (node_of (in_brackets b.place x)) (b.spelling ∷ spellings ts)
  Shown Postfixes ts ps = AreRead V ts → (place : ℕ) (n : ExprNode) (ws : Words) → Spells V of_suffixes n ws → Spells V of_suffixes (node_of (behind place n ps)) (ws ++ spellings ts)
  Shown Type_ ts t = AreRead V ts → SpellsType V t (spellings ts)
  Shown Stars ts n = AreRead V ts → (t : CType) (ws : Words) → SpellsType V t ws → SpellsType V (pointers n t) (ws ++ spellings ts)
  Shown _ ts v = Unit {0}

  -- a token, and what one part of the rule says of all that is left
  token_part : {t : Lexeme} {ts us xs ys : List Lexeme} → ts ≡ t ∷ us → us ≡ xs ++ ys → ys ≡ [] → ts ≡ t ∷ xs
  token_part {t} {ts} {us} {xs} {ys} h g e = h ∙ ap (λ z. t ∷ z) (g ∙ (ap (λ z. xs ++ z) e ∙ append-nil xs))

  one_part : {ts xs ys : List Lexeme} → ts ≡ xs ++ ys → ys ≡ [] → ts ≡ xs
  one_part {ts} {xs} {ys} g e = g ∙ (ap (λ z. xs ++ z) e ∙ append-nil xs)

  -- an expression of one operator, at its place
  placed : (least place : ℕ) (n : ExprNode) (ws : Words) → least ≤ binds n → SpellsBare V n ws → Spells V least (node_of (at place n)) ws
  placed least place n ws h s = subst (λ m. Spells V least m ws) (sym (node_at place n)) (bare h s)

  number_bound : (n : ℕ) (u : Bool) → of_suffixes ≤ binds (e.Num n u)
  number_bound n u = omega (arith, ap (λ p. p.strength_of) (number_is n u))

  name_bound : (w : List ℕ) → of_suffixes ≤ binds (e.Ident w)
  name_bound w = omega (arith, ap (λ p. p.strength_of) (ident_is w))

  expression_shown : (xs ys : List Lexeme) (x : Expr) (os : List (Kind × Expr)) → Shown Unary xs x → Shown Operations ys os → Shown Expression (xs ++ ys) (grouped x os)
  unfolding Shown
  expression_shown xs ys x os p q a =
      let g = parts_read xs ys a in
      subst (Spells V 0 (node_of (grouped x os))) (sym (spelled xs ys)) (grouped_spells x (spellings xs) (p g.0) (q g.1))

  operation_shown : (o : Lexeme) (xs ys : List Lexeme) (x : Expr) (os : List (Kind × Expr)) → has c.Binary o.kind ≡ true → Shown Unary xs x → Shown Operations ys os
      → Shown Operations (o ∷ (xs ++ ys)) ((o.kind, x) ∷ os)
  unfolding Shown
  operation_shown o xs ys x os h p q (next i a) =
      let g = parts_read xs ys a in
      let low : precedence (binary_of o.kind) < of_prefixes = level_below V o.kind h in
      operation o.spelling (spellings xs) (spellings ys) (sym i.kind_is) h (omega (arith, low, level_is V o.kind h)) (p g.0) (q g.1) (ap (λ z. o.spelling ∷ z) (spelled xs ys))

  name_shown : (t : Lexeme) (xs : List Lexeme) (ps : List Postfix) → has c.AnyName t.kind ≡ true → Shown Postfixes xs ps → Shown Unary (t ∷ xs) (behind t.place (e.Ident t.spelling) ps)
  unfolding Shown
  name_shown t xs ps h p (next i a) =
      lower (omega arith) (p a t.place (e.Ident t.spelling) (t.spelling ∷ []) (bare (name_bound t.spelling) (name t.spelling (ap (has c.AnyName) (sym i.kind_is) ∙ h) refl refl)))

  number_shown : (t : Lexeme) (xs : List Lexeme) (ps : List Postfix) → has c.AnyNumber t.kind ≡ true → Shown Postfixes xs ps → Shown Plain (t ∷ xs) (behind t.place (e.Num t.value t.is_unsigned) ps)
  unfolding Shown
  number_shown t xs ps h p (next i a) =
      let made : e.Num t.value t.is_unsigned ≡ e.Num (V.value_at t.spelling) (V.unsigned_at t.spelling) =
      ap (λ n. e.Num n t.is_unsigned) i.value_is ∙ ap (λ u. e.Num (V.value_at t.spelling) u) i.unsigned_is in
      lower (omega arith) (p a t.place (e.Num t.value t.is_unsigned) (t.spelling ∷ []) (bare (number_bound t.value t.is_unsigned) (number t.spelling (ap (has c.AnyNumber) (sym i.kind_is) ∙ h) made refl)))

  prefix_shown : (o : Lexeme) (xs : List Lexeme) (x : Expr) → has c.Prefix o.kind ≡ true → Shown Unary xs x → Shown Plain (o ∷ xs) (at o.place (prefixed o.kind x))
  unfolding Shown
  prefix_shown o xs x h p (next i a) =
      placed of_prefixes o.place (prefixed o.kind x) (o.spelling ∷ spellings xs) (omega (arith, ap (λ q. q.strength_of) (prefix_words o.kind h x)))
      (prefix o.spelling x (spellings xs) (ap (has c.Prefix) (sym i.kind_is) ∙ h) (p a) (ap (λ q. prefixed q x) i.kind_is) refl)

  measure_shown : (m b close : Lexeme) (xs : List Lexeme) (t : CType) → has c.Measure m.kind ≡ true → has (c.One k.LeftParen) b.kind ≡ true → has (c.One k.RightParen) close.kind ≡ true
      → Shown Type_ xs t → Shown Plain (m ∷ b ∷ (xs ++ close ∷ [])) (at m.place (measured m.kind t))
  unfolding Shown
  measure_shown m b close xs t h hb hc p (next i (next j a)) =
      let g = parts_read xs (close ∷ []) a in
      placed of_prefixes m.place (measured m.kind t) (m.spelling ∷ b.spelling ∷ spellings (xs ++ close ∷ [])) (omega (arith, ap (λ q. q.strength_of) (measure_words m.kind h t)))
      (measure m.spelling b.spelling close.spelling t (spellings xs) (ap (has c.Measure) (sym i.kind_is) ∙ h) (sym j.kind_is ∙ only b.kind k.LeftParen hb) (close_is g.1)
      (p g.0) (ap (λ q. measured q t) i.kind_is) (ap (λ z. m.spelling ∷ b.spelling ∷ z) (spelled xs (close ∷ []))))
    where
      close_is : AreRead V (close ∷ []) → V.kind_at close.spelling ≡ k.RightParen
      close_is (next l none) = sym l.kind_is ∙ only close.kind k.RightParen hc

  cast_shown : (close : Lexeme) (ts xs : List Lexeme) (t : CType) (x : Expr) → has (c.One k.RightParen) close.kind ≡ true → Shown Type_ ts t → Shown Unary xs x
      → Shown AfterParen (ts ++ close ∷ xs) (enclosed.Cast t x)
  unfolding Shown
  cast_shown close ts xs t x hc p q a b ib hb = by_parts (parts_read ts (close ∷ xs) a)
    where
      by_parts : AreRead V ts × AreRead V (close ∷ xs) → Spells V of_prefixes (node_of (at b.place (e.Cast t x))) (b.spelling ∷ spellings (ts ++ close ∷ xs))
      by_parts (g, next l r) =
          placed of_prefixes b.place (e.Cast t x) (b.spelling ∷ spellings (ts ++ close ∷ xs)) (omega (arith, ap (λ q. q.strength_of) (cast_is t x)))
          (cast b.spelling close.spelling t (spellings ts) x (spellings xs) (sym ib.kind_is ∙ hb) (sym l.kind_is ∙ only close.kind k.RightParen hc) (p g) (q r) refl
          (ap (λ z. b.spelling ∷ z) (spelled ts (close ∷ xs))))

  brackets_shown : (close : Lexeme) (xs zs : List Lexeme) (x : Expr) (ps : List Postfix) → has (c.One k.RightParen) close.kind ≡ true → Shown Expression xs x → Shown Postfixes zs ps
      → Shown AfterParen (xs ++ close ∷ zs) (enclosed.Brackets x ps)
  unfolding Shown
  brackets_shown close xs zs x ps hc p q a b ib hb = by_parts (parts_read xs (close ∷ zs) a)
    where
      by_parts : AreRead V xs × AreRead V (close ∷ zs) → Spells V of_prefixes (node_of (behind b.place (node_of x) ps)) (b.spelling ∷ spellings (xs ++ close ∷ zs))
      by_parts (g, next l r) =
          let inner = brackets {least = of_suffixes} b.spelling close.spelling (spellings xs) (sym ib.kind_is ∙ hb) (sym l.kind_is ∙ only close.kind k.RightParen hc) (p g) refl in
          let whole = q r b.place (node_of x) (b.spelling ∷ spellings xs ++ close.spelling ∷ []) inner in
          subst (Spells V of_prefixes (node_of (behind b.place (node_of x) ps)))
          (append_assoc (b.spelling ∷ spellings xs) (close.spelling ∷ []) (spellings zs) ∙ ap (λ z. b.spelling ∷ z) (sym (spelled xs (close ∷ zs)))) (lower (omega arith) whole)

  member_shown : (o f : Lexeme) (zs : List Lexeme) (ps : List Postfix) → has c.Member o.kind ≡ true → has c.AnyName f.kind ≡ true → Shown Postfixes zs ps
      → Shown Postfixes (o ∷ f ∷ zs) (postfix.Member o.kind f.spelling ∷ ps)
  unfolding Shown
  member_shown o f zs ps h g p (next i (next j a)) place n ws s =
      let m = member_of o.kind (at place n) f.spelling in
      let inner = member o.spelling f.spelling (at place n) ws (ap (has c.Member) (sym i.kind_is) ∙ h) (ap (has c.AnyName) (sym j.kind_is) ∙ g)
      (subst (λ q. Spells V of_suffixes q ws) (sym (node_at place n)) s) (ap (λ q. member_of q (at place n) f.spelling) i.kind_is) refl in
      subst (Spells V of_suffixes (node_of (behind place m ps))) (append_assoc ws (o.spelling ∷ f.spelling ∷ []) (spellings zs))
      (p a place m (ws ++ o.spelling ∷ f.spelling ∷ []) (bare (omega (arith, ap (λ q. q.strength_of) (member_words o.kind h (at place n) f.spelling))) inner))

  index_shown : (b close : Lexeme) (xs zs : List Lexeme) (x : Expr) (ps : List Postfix) → has (c.One k.LeftBracket) b.kind ≡ true → has (c.One k.RightBracket) close.kind ≡ true
      → Shown Expression xs x → Shown Postfixes zs ps → Shown Postfixes (b ∷ (xs ++ close ∷ zs)) (postfix.Index x ∷ ps)
  unfolding Shown
  index_shown b close xs zs x ps hb hc p q (next i a) place n ws s = by_parts (parts_read xs (close ∷ zs) a)
    where
      by_parts : AreRead V xs × AreRead V (close ∷ zs) → Spells V of_suffixes (node_of (behind place (e.Index (at place n) x) ps)) (ws ++ b.spelling ∷ spellings (xs ++ close ∷ zs))
      by_parts (g, next l r) =
          let m = e.Index (at place n) x in
          let inner = index b.spelling close.spelling (at place n) x ws (spellings xs) (sym i.kind_is ∙ only b.kind k.LeftBracket hb) (sym l.kind_is ∙ only close.kind k.RightBracket hc)
          (subst (λ q. Spells V of_suffixes q ws) (sym (node_at place n)) s) (p g) refl refl in
          let whole = q r place m (ws ++ b.spelling ∷ spellings xs ++ close.spelling ∷ []) (bare (omega (arith, ap (λ q. q.strength_of) (index_is (at place n) x))) inner) in
          subst (Spells V of_suffixes (node_of (behind place m ps)))
          (append_assoc (ws ++ b.spelling ∷ spellings xs) (close.spelling ∷ []) (spellings zs) ∙ (append_assoc ws (b.spelling ∷ spellings xs) (close.spelling ∷ spellings zs)
          ∙ ap (λ z. ws ++ b.spelling ∷ z) (sym (spelled xs (close ∷ zs))))) whole

  simple_shown : (t : Lexeme) (xs : List Lexeme) (n : ℕ) → has c.SimpleType t.kind ≡ true → Shown Stars xs n → Shown Type_ (t ∷ xs) (pointers n (simple_of t.kind))
  unfolding Shown
  simple_shown t xs n h p (next i a) = p a (simple_of t.kind) (t.spelling ∷ []) (simple t.spelling (ap (has c.SimpleType) (sym i.kind_is) ∙ h) (ap simple_of i.kind_is) refl)

  struct_shown : (t u : Lexeme) (xs : List Lexeme) (n : ℕ) → has (c.One k.Struct) t.kind ≡ true → has c.AnyName u.kind ≡ true → Shown Stars xs n
      → Shown Type_ (t ∷ u ∷ xs) (pointers n (typ.Struct u.spelling))
  unfolding Shown
  struct_shown t u xs n h g p (next i (next j a)) =
      p a (typ.Struct u.spelling) (t.spelling ∷ u.spelling ∷ []) (struct t.spelling u.spelling (sym i.kind_is ∙ only t.kind k.Struct h) (ap (has c.AnyName) (sym j.kind_is) ∙ g) refl refl)

  star_shown : (t : Lexeme) (xs : List Lexeme) (n : ℕ) → has (c.One k.Star) t.kind ≡ true → Shown Stars xs n → Shown Stars (t ∷ xs) (suc n)
  unfolding Shown
  star_shown t xs n h p (next i a) to ws s =
      subst (SpellsType V (pointers n (typ.Pointer to))) (append_assoc ws (t.spelling ∷ []) (spellings xs))
      (p a (typ.Pointer to) (ws ++ t.spelling ∷ []) (pointer to ws t.spelling (sym i.kind_is ∙ only t.kind k.Star h) s refl refl))

  moved : (S : Sort) {ts us : List Lexeme} (v : Value S) → ts ≡ us → Shown S us v → Shown S ts v
  moved S v h p = subst (λ z. Shown S z v) (sym h) p

  -- nothing is to be shown of the sort
  abbrev is_other : Sort → Bool
  is_other Expression = false
  is_other Operations = false
  is_other Unary = false
  is_other Plain = false
  is_other AfterParen = false
  is_other Postfixes = false
  is_other Type_ = false
  is_other Stars = false
  is_other _ = true

  other_shown : (S : Sort) → is_other S ≡ true → (ts : List Lexeme) (v : Value S) → Shown S ts v
  unfolding Shown
  other_shown Expression h ts v = absurd (cc)
  other_shown Operations h ts v = absurd (cc)
  other_shown Unary h ts v = absurd (cc)
  other_shown Plain h ts v = absurd (cc)
  other_shown AfterParen h ts v = absurd (cc)
  other_shown Postfixes h ts v = absurd (cc)
  other_shown Type_ h ts v = absurd (cc)
  other_shown Stars h ts v = absurd (cc)
  other_shown _ h ts v = tt

  nothing_shown : (ts : List Lexeme) → ts ≡ [] → Shown Operations ts []
  unfolding Shown
  nothing_shown ts h a = nothing (ap spellings h)

  no_postfix_shown : Shown Postfixes [] []
  unfolding Shown
  no_postfix_shown a place n ws s = subst (λ m. Spells V of_suffixes m (ws ++ [])) (sym (node_at place n)) (subst (Spells V of_suffixes n) (sym (append-nil ws)) s)

  no_star_shown : Shown Stars [] 0
  unfolding Shown
  no_star_shown a t ws s = subst (SpellsType V t) (sym (append-nil ws)) s

  plain_shown : (xs : List Lexeme) (x : Expr) → Shown Plain xs x → Shown Unary xs x
  unfolding Shown
  plain_shown xs x p = p

  paren_shown : (b : Lexeme) (xs : List Lexeme) (x : Enclosed) → has (c.One k.LeftParen) b.kind ≡ true → Shown AfterParen xs x → Shown Plain (b ∷ xs) (in_brackets b.place x)
  unfolding Shown
  paren_shown b xs x h p (next i a) = p a b i (only b.kind k.LeftParen h)

  shown_rule : ByRules grammar Shown
  shown_rule _ Rule.expression ts (x, (os, _)) (xs, ys, cut, p, (zs, ws, cut2, q, e)) =
      moved Expression (grouped x os) (cut ∙ ap (λ z. xs ++ z) (one_part cut2 e)) (expression_shown xs zs x os p q)
  shown_rule _ Rule.no_operation ts vs e = nothing_shown ts e
  shown_rule _ Rule.operation ts (o, (x, (os, _))) (us, cut, h, (xs, ys, cut2, p, (zs, ws, cut3, q, e))) =
      moved Operations ((o.kind, x) ∷ os) (cut ∙ ap (λ z. o ∷ z) (cut2 ∙ ap (λ z. xs ++ z) (one_part cut3 e))) (operation_shown o xs zs x os h p q)
  shown_rule _ Rule.name ts (t, (ps, _)) (us, cut, h, (xs, ys, cut2, p, e)) = moved Unary _ (token_part cut cut2 e) (name_shown t xs ps h p)
  shown_rule _ Rule.other_operand ts (x, _) (xs, ys, cut, p, e) = moved Unary x (one_part cut e) (plain_shown xs x p)
  shown_rule _ Rule.prefix ts (o, (x, _)) (us, cut, h, (xs, ys, cut2, p, e)) = moved Plain _ (token_part cut cut2 e) (prefix_shown o xs x h p)
  shown_rule _ Rule.measure ts (m, (b, (t, (close, _)))) (us, cut, h, (vs, cut2, hb, (xs, ys, cut3, p, (zs, cut4, hc, e)))) =
      moved Plain _ (cut ∙ ap (λ z. m ∷ z) (cut2 ∙ ap (λ z. b ∷ z) (cut3 ∙ ap (λ z. xs ++ z) (cut4 ∙ ap (λ z. close ∷ z) e)))) (measure_shown m b close xs t h hb hc p)
  shown_rule _ Rule.number ts (t, (ps, _)) (us, cut, h, (xs, ys, cut2, p, e)) = moved Plain _ (token_part cut cut2 e) (number_shown t xs ps h p)
  shown_rule _ Rule.paren ts (b, (x, _)) (us, cut, h, (xs, ys, cut2, p, e)) = moved Plain _ (token_part cut cut2 e) (paren_shown b xs x h p)
  shown_rule _ Rule.cast ts (t, (close, (x, _))) (xs, ys, cut, p, (us, cut2, hc, (zs, ws, cut3, q, e))) =
      moved AfterParen (enclosed.Cast t x) (cut ∙ ap (λ z. xs ++ z) (token_part cut2 cut3 e)) (cast_shown close xs zs t x hc p q)
  shown_rule _ Rule.brackets ts (x, (close, (ps, _))) (xs, ys, cut, p, (us, cut2, hc, (zs, ws, cut3, q, e))) =
      moved AfterParen (enclosed.Brackets x ps) (cut ∙ ap (λ z. xs ++ z) (token_part cut2 cut3 e)) (brackets_shown close xs zs x ps hc p q)
  shown_rule _ Rule.no_postfix ts vs e = moved Postfixes [] e no_postfix_shown
  shown_rule _ Rule.member ts (o, (f, (ps, _))) (us, cut, h, (vs, cut2, g, (xs, ys, cut3, p, e))) =
      moved Postfixes _ (cut ∙ ap (λ z. o ∷ z) (token_part cut2 cut3 e)) (member_shown o f xs ps h g p)
  shown_rule _ Rule.index ts (b, (x, (close, (ps, _)))) (us, cut, hb, (xs, ys, cut2, p, (vs, cut3, hc, (zs, ws, cut4, q, e)))) =
      moved Postfixes _ (cut ∙ ap (λ z. b ∷ z) (cut2 ∙ ap (λ z. xs ++ z) (token_part cut3 cut4 e))) (index_shown b close xs zs x ps hb hc p q)
  shown_rule _ Rule.simple_type ts (t, (n, _)) (us, cut, h, (xs, ys, cut2, p, e)) = moved Type_ _ (token_part cut cut2 e) (simple_shown t xs n h p)
  shown_rule _ Rule.struct_type ts (t, (u, (n, _))) (us, cut, h, (vs, cut2, g, (xs, ys, cut3, p, e))) =
      moved Type_ _ (cut ∙ ap (λ z. t ∷ z) (token_part cut2 cut3 e)) (struct_shown t u xs n h g p)
  shown_rule _ Rule.no_star ts vs e = moved Stars 0 e no_star_shown
  shown_rule _ Rule.star ts (t, (n, _)) (us, cut, h, (xs, ys, cut2, p, e)) = moved Stars _ (token_part cut cut2 e) (star_shown t xs n h p)
  shown_rule _ _ ts vs p = other_shown _ refl ts _

pub read_is_spelled : ReadIsSpelled
unfolding Shown
read_is_spelled V x ts is a = all_are grammar (Shown V) (shown_rule V) is a

-- a type that is read spells itself
pub type_is_spelled : (V : Vocabulary) (t : CType) (ts : List Lexeme) → Is grammar Type_ ts t → AreRead V ts → SpellsType V t (spellings ts)
unfolding Shown
type_is_spelled V t ts is a = all_are grammar (Shown V) (shown_rule V) is a

pub expressions_read_back : ExpressionsReadBack
expressions_read_back V x ts us is a b = reads_back_of V x (spellings ts) us (read_is_spelled V x ts is a) b
