-- The tokens that are printed of arguments and calls that are read are read as them, places apart.
use Rattle.std.proofs.Common.{ℕ, ◌≡◌, Bool, true, List, [], ◌∷◌, ◌++◌, map, flat_map, codes, None, refl, sym, ◌∙◌, ap, subst, append_assoc}
use Rattle.std.specs.Prelude.{option_map}
use Rattle.std.proofs.lemmas.List.{append-nil}
use Rattle.vd_base.specs.declared.ctype.CType.{CType}
use Rattle.vd_clight.specs.declared.syntax.Expr.{Expr}
use Rattle.vd_clight.specs.declared.syntax.ExprNode.TheVariants as e
use Rattle.vd_clight.specs.declared.syntax.StmtNode.TheVariants as s
use Rattle.vd_clight.specs.declared.syntax.StmtNode.TheVariants.{outs-Call}
use Rattle.vd_clight.specs.Printed.{Words, one, listed, bracketed, type_words, expression_words, result_words, block_words, else_words, statement_words, phrase}
use Rattle.vd_grammar.specs.Grammar.{Is}
use Rattle.vd_cgrammar.specs.declared.kind.Kind.TheVariants as k
use Rattle.vd_cgrammar.specs.declared.kind.Class.TheVariants as c
use Rattle.vd_cgrammar.specs.declared.parts.Source.TheVariants as source
use Rattle.vd_cgrammar.specs.declared.parts.Tail.TheVariants as tail
use Rattle.vd_cgrammar.specs.declared.parts.Named.TheVariants as named
use Rattle.vd_cgrammar.specs.Kinds.{has}
use Rattle.vd_cgrammar.specs.Lexeme.{Lexeme}
use Rattle.vd_cgrammar.specs.Syntax.{at, called, stmt_at, source_of, statement_of}
use Rattle.vd_cgrammar.specs.Grammar.{Sort, Value, Rule, grammar, symbols, Arguments, MoreArguments, Special, Right, AfterTarget, AfterName, Returned, Statement, Statements, Block, Otherwise}
use Rattle.vd_cgrammar.specs.Derivations.{Parts}
use Rattle.vd_cgrammar.specs.Precedence.{Vocabulary}
use Rattle.vd_cgrammar.specs.Standing.{IsToken, AreTokens, AreRead}
use Rattle.vd_cgrammar.specs.Unplaced.{unplaced, unplaced_statement}
use Rattle.vd_cgrammar.proofs.Again.{sign, same_kind, again, first_read, both_read, expressed, typed}
use Rattle.vd_cgrammar.proofs.PrintedPhrases.{in_place, ident_is, sizeof_is, operand_is}
use Rattle.vd_cgrammar.proofs.ReadingBack.{split, first, nothing_left}
use Rattle.vd_cgrammar.proofs.SameNodes.{node_at, same_unplaced, same_at}
use Rattle.vd_cgrammar.proofs.SameStatements.{words_at, same_call, unplaced_source, same_call_source, same_called, same_name, source_words}
use Rattle.vd_cgrammar.proofs.Starts.{Derived, put_together, Step}

-- the tokens that are printed of what a sort says
abbrev pub printed_of : (S : Sort) → Value S → Words
printed_of (Statement inside) x = statement_words x
printed_of (Statements inside) xs = flat_map (λ x. x) (map statement_words xs) ++ one (codes "}")
printed_of (Block inside) xs = block_words (map statement_words xs)
printed_of (Otherwise inside) xs = else_words (map statement_words xs)
printed_of Returned x = result_words x ++ one (codes ";")
printed_of Right r = source_words r
printed_of Special f = f.name ∷ codes "(" ∷ listed (map expression_words f.arguments) ++ one (codes ")")
printed_of Arguments xs = listed (map expression_words xs) ++ one (codes ")")
printed_of MoreArguments xs = flat_map (λ y. codes "," ∷ y) (map expression_words xs) ++ one (codes ")")
printed_of _ v = []

-- what a sort says, places apart
abbrev pub bare : (S : Sort) → Value S → Value S
bare (Statement inside) x = unplaced_statement x
bare (Statements inside) xs = map unplaced_statement xs
bare (Block inside) xs = map unplaced_statement xs
bare (Otherwise inside) xs = map unplaced_statement xs
bare Returned x = option_map unplaced x
bare Right r = unplaced_source r
bare Special f = record { place = 0; name = f.name; arguments = map unplaced f.arguments }
bare Arguments xs = map unplaced xs
bare MoreArguments xs = map unplaced xs
bare _ v = v

-- the tokens are the value, places apart
pub record Back (S : Sort) (v : Value S) (us : List Lexeme) : Type 0 where
  pub value : Value S
  pub is : Is grammar S us value
  pub same : bare S value ≡ bare S v

pub call_cut : (ws : Words) → ws ++ codes ")" ∷ one (codes ";") ≡ (ws ++ one (codes ")")) ++ one (codes ";")
call_cut ws = sym (append_assoc ws (one (codes ")")) (one (codes ";")))

pub both_same : {A : Type 0} (x y : A) (xs ys : List A) → x ≡ y → xs ≡ ys → x ∷ xs ≡ y ∷ ys
both_same x y xs ys h g = ap (λ z. z ∷ xs) h ∙ ap (λ z. y ∷ z) g

pub name_words : (place : ℕ) (w : List ℕ) → expression_words (at place (e.Ident w)) ≡ one w
name_words place w =
    ap (λ f. f 0) (operand_is (at place (e.Ident w))) ∙ (ap (λ n. in_place (phrase n) 0) (node_at place (e.Ident w)) ∙ ap (λ p. in_place p 0) (ident_is w))

pub size_words : (place : ℕ) (t : CType) → expression_words (at place (e.SizeOf t)) ≡ codes "sizeof" ∷ bracketed (type_words t)
size_words place t =
    ap (λ f. f 0) (operand_is (at place (e.SizeOf t))) ∙ (ap (λ n. in_place (phrase n) 0) (node_at place (e.SizeOf t)) ∙ ap (λ p. in_place p 0) (sizeof_is t))

module _ (V : Vocabulary) where
  -- whatever stands for the tokens that are printed is read as the value
  abbrev pub PrintsBack : (S : Sort) → Value S → Type 0
  PrintsBack S v = (us : List Lexeme) → AreTokens V us (printed_of S v) → Back S v us

  -- what is shown of each sort
  unfoldable pub Shown : (S : Sort) → List Lexeme → Value S → Type 0
  Shown (Statement inside) ts x = AreRead V ts → PrintsBack (Statement inside) x
  Shown (Statements inside) ts xs = AreRead V ts → PrintsBack (Statements inside) xs
  Shown (Block inside) ts xs = AreRead V ts → PrintsBack (Block inside) xs
  Shown (Otherwise inside) ts xs = AreRead V ts → PrintsBack (Otherwise inside) xs
  Shown Returned ts x = AreRead V ts → PrintsBack Returned x
  Shown Right ts r = AreRead V ts → PrintsBack Right r
  Shown Special ts f = AreRead V ts → PrintsBack Special f
  Shown Arguments ts xs = AreRead V ts → PrintsBack Arguments xs
  Shown MoreArguments ts xs = AreRead V ts → PrintsBack MoreArguments xs
  Shown AfterTarget ts n = (t : Lexeme) → has c.AnyName t.kind ≡ true → AreRead V (t ∷ ts) → PrintsBack Right (source_of t.place t.spelling n)
  Shown AfterName ts n = (t : Lexeme) → has c.AnyName t.kind ≡ true → AreRead V (t ∷ ts) → (inside : Bool) → PrintsBack (Statement inside) (statement_of t.place t.spelling n)
  Shown _ ts v = Unit {0}

  -- ---- arguments

  pub no_argument_shown : Step Shown Rule.no_argument
  unfolding Shown
  no_argument_shown ts vs m a us b =
      let f = first V b in
      record { value = []; is = put_together Rule.no_argument us (f.token, tt) (f.rest, f.cut, sign V k.RightParen refl f.is, nothing_left V f.others); same = refl }

  pub last_argument_shown : Step Shown Rule.last_argument
  unfolding Shown
  last_argument_shown ts vs m a us b =
      let f = first V b in
      record { value = []; is = put_together Rule.last_argument us (f.token, tt) (f.rest, f.cut, sign V k.RightParen refl f.is, nothing_left V f.others); same = refl }

  pub first_argument_shown : Step Shown Rule.first_argument
  unfolding Shown
  first_argument_shown ts (x, (xs, _)) (ys, zs, cut, p, (vs, ws, cut2, q, e)) a us b =
      let a1 = both_read V cut a in
      let a2 = both_read V cut2 a1.1 in
      let more = flat_map (λ y. codes "," ∷ y) (map expression_words xs) in
      let d = split V (expression_words x) (more ++ one (codes ")")) (subst (AreTokens V us) (append_assoc (expression_words x) more (one (codes ")"))) b) in
      let l = expressed V p.0 a1.0 d.left in
      let r = q.1 a2.0 d.back d.right in
      record {
        value = l.value ∷ r.value;
        is = put_together Rule.first_argument us (l.value, (r.value, tt)) (d.front, d.back, d.cut, l.is, (d.back, [], sym (append-nil d.back), r.is, refl));
        same = both_same (unplaced l.value) (unplaced x) (map unplaced r.value) (map unplaced xs) l.same r.same;
      }

  pub next_argument_shown : Step Shown Rule.next_argument
  unfolding Shown
  next_argument_shown ts (comma, (x, (xs, _))) (us1, cut0, h, (ys, zs, cut, p, (vs, ws, cut2, q, e))) a us b =
      let a0 = first_read V cut0 a in
      let a1 = both_read V cut a0.1 in
      let a2 = both_read V cut2 a1.1 in
      let more = flat_map (λ y. codes "," ∷ y) (map expression_words xs) in
      let f = first V b in
      let d = split V (expression_words x) (more ++ one (codes ")")) (subst (AreTokens V f.rest) (append_assoc (expression_words x) more (one (codes ")"))) f.others) in
      let l = expressed V p.0 a1.0 d.left in
      let r = q.1 a2.0 d.back d.right in
      record {
        value = l.value ∷ r.value;
        is = put_together Rule.next_argument us (f.token, (l.value, (r.value, tt)))
            (f.rest, f.cut, sign V k.Comma refl f.is, (d.front, d.back, d.cut, l.is, (d.back, [], sym (append-nil d.back), r.is, refl)));
        same = both_same (unplaced l.value) (unplaced x) (map unplaced r.value) (map unplaced xs) l.same r.same;
      }

  -- ---- calls

  -- a name, arguments in brackets and a semicolon
  record Call (name : List ℕ) (es : List Expr) (us : List Lexeme) : Type 0 where
    token : Lexeme
    rest : List Lexeme
    values : List Expr
    cut : us ≡ token ∷ rest
    is_name : IsToken V token name
    behind_name : Is grammar AfterName rest (named.Called values)
    behind_target : Is grammar AfterTarget rest (tail.Called values)
    same : map unplaced values ≡ map unplaced es

  call_back : (name : List ℕ) (es : List Expr) → PrintsBack Arguments es → (us : List Lexeme) → AreTokens V us (name ∷ codes "(" ∷ listed (map expression_words es) ++ codes ")" ∷ one (codes ";"))
      → Call name es us
  call_back name es p us b =
      let f = first V b in
      let g = first V f.others in
      let ws = listed (map expression_words es) in
      let d = split V (ws ++ one (codes ")")) (one (codes ";")) (subst (AreTokens V g.rest) (call_cut ws) g.others) in
      let m = p d.front d.left in
      let l = first V d.right in
      let parts : Parts grammar Derived (symbols Rule.called_statement) f.rest (g.token, (m.value, (l.token, tt))) = (g.rest, g.cut, sign V k.LeftParen refl g.is, (d.front, d.back, d.cut, m.is, (l.rest, l.cut, sign V k.Semicolon refl l.is, nothing_left V l.others))) in
      record {
        token = f.token;
        rest = f.rest;
        values = m.value;
        cut = f.cut;
        is_name = f.is;
        behind_name = put_together Rule.called_statement f.rest (g.token, (m.value, (l.token, tt))) parts;
        behind_target = put_together Rule.called_source f.rest (g.token, (m.value, (l.token, tt))) parts;
        same = m.same;
      }

  pub called_statement_shown : Step Shown Rule.called_statement
  unfolding Shown
  called_statement_shown ts (opening, (xs, (semicolon, _))) (us1, cut, h, (ys, zs, cut2, q, (us2, cut3, g, e))) t name a inside us b =
      let a0 = first_read V {t = t} refl a in
      let a1 = first_read V cut a0.1 in
      let a2 = both_read V cut2 a1.1 in
      let r = call_back t.spelling xs (q.1 a2.0) us (subst (AreTokens V us) (words_at t.place (s.Call None t.spelling xs) _ (outs-Call None t.spelling xs)) b) in
      record {
        value = stmt_at r.token.place (s.Call None r.token.spelling r.values);
        is = put_together (Rule.named_statement {inside = inside}) us (r.token, (named.Called r.values, tt))
            (r.rest, r.cut, ap (has c.AnyName) (same_kind V a0.0 r.is_name) ∙ name, (r.rest, [], sym (append-nil r.rest), r.behind_name, refl));
        same = same_call r.token.place t.place None None r.token.spelling t.spelling r.values xs refl r.is_name.spelling_is r.same;
      }

  pub called_source_shown : Step Shown Rule.called_source
  unfolding Shown
  called_source_shown ts (opening, (xs, (semicolon, _))) (us1, cut, h, (ys, zs, cut2, q, (us2, cut3, g, e))) t name a us b =
      let a0 = first_read V {t = t} refl a in
      let a1 = first_read V cut a0.1 in
      let a2 = both_read V cut2 a1.1 in
      let r = call_back t.spelling xs (q.1 a2.0) us b in
      record {
        value = source.Call r.token.spelling r.values;
        is = put_together Rule.named_source us (r.token, (tail.Called r.values, tt))
            (r.rest, r.cut, ap (has c.AnyName) (same_kind V a0.0 r.is_name) ∙ name, (r.rest, [], sym (append-nil r.rest), r.behind_target, refl));
        same = same_call_source r.token.spelling t.spelling r.values xs r.is_name.spelling_is r.same;
      }

  pub special_statement_shown : (inside : Bool) → Step Shown (Rule.special_statement {inside = inside})
  unfolding Shown
  special_statement_shown inside ts (f, (semicolon, _)) (xs, ys, cut, p, (zs, cut2, h, e)) a us b =
      let a1 = both_read V cut a in
      let ws = listed (map expression_words f.arguments) in
      let g = subst (AreTokens V us) (words_at f.place (s.Call None f.name f.arguments) _ (outs-Call None f.name f.arguments) ∙ ap (λ z. f.name ∷ codes "(" ∷ z) (call_cut ws)) b in
      let d = split V (f.name ∷ codes "(" ∷ ws ++ one (codes ")")) (one (codes ";")) g in
      let m = p.1 a1.0 d.front d.left in
      let l = first V d.right in
      record {
        value = stmt_at m.value.place (s.Call None m.value.name m.value.arguments);
        is = put_together (Rule.special_statement {inside = inside}) us (m.value, (l.token, tt))
            (d.front, d.back, d.cut, m.is, (l.rest, l.cut, sign V k.Semicolon refl l.is, nothing_left V l.others));
        same = same_call m.value.place f.place None None m.value.name f.name m.value.arguments f.arguments refl (ap (λ z. z.name) m.same) (ap (λ z. z.arguments) m.same);
      }

  pub special_source_shown : Step Shown Rule.special_source
  unfolding Shown
  special_source_shown ts (f, (semicolon, _)) (xs, ys, cut, p, (zs, cut2, h, e)) a us b =
      let a1 = both_read V cut a in
      let ws = listed (map expression_words f.arguments) in
      let d = split V (f.name ∷ codes "(" ∷ ws ++ one (codes ")")) (one (codes ";")) (subst (AreTokens V us) (ap (λ z. f.name ∷ codes "(" ∷ z) (call_cut ws)) b) in
      let m = p.1 a1.0 d.front d.left in
      let l = first V d.right in
      record {
        value = source.Call m.value.name m.value.arguments;
        is = put_together Rule.special_source us (m.value, (l.token, tt)) (d.front, d.back, d.cut, m.is, (l.rest, l.cut, sign V k.Semicolon refl l.is, nothing_left V l.others));
        same = same_call_source m.value.name f.name m.value.arguments f.arguments (ap (λ z. z.name) m.same) (ap (λ z. z.arguments) m.same);
      }

  pub library_shown : Step Shown Rule.library
  unfolding Shown
  library_shown ts (f, (opening, (xs, _))) (us1, cut, h, (us2, cut2, g, (ys, zs, cut3, p, e))) a us b =
      let a1 = first_read V cut a in
      let a2 = first_read V cut2 a1.1 in
      let a3 = both_read V cut3 a2.1 in
      let u = first V b in
      let o = first V u.others in
      let m = p.1 a3.0 o.rest o.others in
      record {
        value = called u.token.place u.token.spelling m.value;
        is = put_together Rule.library us (u.token, (o.token, (m.value, tt)))
            (u.rest, u.cut, again V k.Library a1.0 u.is h, (o.rest, o.cut, sign V k.LeftParen refl o.is, (o.rest, [], sym (append-nil o.rest), m.is, refl)));
        same = same_called u.token.spelling f.spelling (map unplaced m.value) (map unplaced xs) u.is.spelling_is m.same;
      }

  pub spawn_shown : Step Shown Rule.spawn
  unfolding Shown
  spawn_shown ts (f, (opening, (x, (xs, _)))) (us1, cut, h, (us2, cut2, g, (us3, cut3, n, (ys, zs, cut4, p, _)))) a us b =
      let a1 = first_read V cut a in
      let a2 = first_read V cut2 a1.1 in
      let a3 = first_read V cut3 a2.1 in
      let a4 = both_read V cut4 a3.1 in
      let more = flat_map (λ y. codes "," ∷ y) (map expression_words xs) in
      let u = first V (subst (AreTokens V us) (ap (λ z. f.spelling ∷ codes "(" ∷ (z ++ more) ++ one (codes ")")) (name_words x.place x.spelling)) b) in
      let o = first V u.others in
      let w = first V o.others in
      let m = p.1 a4.0 w.rest w.others in
      record {
        value = called u.token.place u.token.spelling (at w.token.place (e.Ident w.token.spelling) ∷ m.value);
        is = put_together Rule.spawn us (u.token, (o.token, (w.token, (m.value, tt)))) (
          u.rest,
          u.cut,
          again V k.Spawn a1.0 u.is h,
          (
            o.rest,
            o.cut,
            sign V k.LeftParen refl o.is,
            (w.rest, w.cut, ap (has c.AnyName) (same_kind V a3.0 w.is) ∙ n, (w.rest, [], sym (append-nil w.rest), m.is, refl)),
          ),
        );
        same = same_called u.token.spelling f.spelling _ _ u.is.spelling_is
            (both_same _ _ (map unplaced m.value) (map unplaced xs) (same_name w.token.place x.place w.token.spelling x.spelling w.is.spelling_is) m.same);
      }

  malloc_words : (f : List ℕ) (place : ℕ) (t : CType) → f ∷ codes "(" ∷ listed (expression_words (at place (e.SizeOf t)) ∷ []) ++ one (codes ")")
      ≡ f ∷ codes "(" ∷ codes "sizeof" ∷ codes "(" ∷ type_words t ++ codes ")" ∷ one (codes ")")
  malloc_words f place t =
      ap (λ z. f ∷ codes "(" ∷ (z ++ []) ++ one (codes ")")) (size_words place t)
      ∙ (ap (λ z. f ∷ codes "(" ∷ z ++ one (codes ")")) (append-nil (codes "sizeof" ∷ bracketed (type_words t)))
      ∙ ap (λ z. f ∷ codes "(" ∷ codes "sizeof" ∷ codes "(" ∷ z) (append_assoc (type_words t) (one (codes ")")) (one (codes ")"))))

  pub malloc_shown : Step Shown Rule.malloc
  unfolding Shown
  malloc_shown ts (f, (opening, (size, (opening2, (t, (close, (close2, _))))))) (us1, cut, h, (us2, cut2, g, (us3, cut3, n, (us4, cut4, i, (ys, zs, cut5, p, q))))) a us b =
      let a1 = first_read V cut a in
      let a2 = first_read V cut2 a1.1 in
      let a3 = first_read V cut3 a2.1 in
      let a4 = first_read V cut4 a3.1 in
      let a5 = both_read V cut5 a4.1 in
      let u = first V (subst (AreTokens V us) (malloc_words f.spelling size.place t) b) in
      let o = first V u.others in
      let w = first V o.others in
      let o2 = first V w.others in
      let d = split V (type_words t) (codes ")" ∷ one (codes ")")) o2.others in
      let c1 = first V d.right in
      let c2 = first V c1.others in
      record {
        value = called u.token.place u.token.spelling (at w.token.place (e.SizeOf t) ∷ []);
        is = put_together Rule.malloc us (u.token, (o.token, (w.token, (o2.token, (t, (c1.token, (c2.token, tt))))))) (
          u.rest,
          u.cut,
          again V k.Malloc a1.0 u.is h,
          (
            o.rest,
            o.cut,
            sign V k.LeftParen refl o.is,
            (
              w.rest,
              w.cut,
              sign V k.SizeOf refl w.is,
              (
                o2.rest,
                o2.cut,
                sign V k.LeftParen refl o2.is,
                (d.front, d.back, d.cut, typed V p.0 a5.0 d.left, (c1.rest, c1.cut, sign V k.RightParen refl c1.is, (c2.rest, c2.cut, sign V k.RightParen refl c2.is, nothing_left V c2.others))),
              ),
            ),
          ),
        );
        same = same_called u.token.spelling f.spelling _ _ u.is.spelling_is
            (ap (λ z. z ∷ []) (same_unplaced (at w.token.place (e.SizeOf t)) (at size.place (e.SizeOf t)) (same_at w.token.place size.place (e.SizeOf t) (e.SizeOf t) refl)));
      }
