-- What is printed of a statement that is read is nested no more deeply than its tokens.
use Rattle.std.proofs.Common.{ℕ, suc, ◌-◌, ◌≡◌, Bool, true, false, List, [], ◌∷◌, ◌++◌, map, flat_map, codes, None, refl, sym, ◌∙◌, ap, subst, arith, append_assoc}
use Rattle.std.proofs.lemmas.List.{map-append}
use Rattle.vd_clight.specs.declared.syntax.Expr.{Expr}
use Rattle.vd_clight.specs.declared.syntax.ExprNode.TheVariants as e
use Rattle.vd_clight.specs.declared.syntax.Stmt.{Stmt}
use Rattle.vd_clight.specs.declared.syntax.StmtNode.TheVariants as s
use Rattle.vd_clight.specs.declared.syntax.StmtNode.TheVariants.{outs-Skip, outs-Call, outs-If, outs-While, outs-Return}
use Rattle.vd_clight.specs.Printed.{Words, one, listed, expression_words, type_words, block_words, else_words, statement_words}
use Rattle.vd_grammar.specs.Grammar.{Is}
use Rattle.vd_cgrammar.specs.declared.depth.Depth.{Depth}
use Rattle.vd_cgrammar.specs.declared.kind.Kind.TheVariants as k
use Rattle.vd_cgrammar.specs.declared.kind.Class.TheVariants as c
use Rattle.vd_cgrammar.specs.declared.parts.Source.{Source}
use Rattle.vd_cgrammar.specs.declared.parts.Source.TheVariants as source
use Rattle.vd_cgrammar.specs.Kinds.{has}
use Rattle.vd_cgrammar.specs.Lexeme.{Lexeme}
use Rattle.vd_cgrammar.specs.Nesting.{after}
use Rattle.vd_cgrammar.specs.Syntax.{at, behind, grouped, assigned, source_of, statement_of}
use Rattle.vd_cgrammar.specs.Grammar.{Sort, Value, Rule, grammar, Expression, Arguments, MoreArguments, Special, Right, AfterTarget, AfterName, Returned, Statement, Statements, Block, Otherwise}
use Rattle.vd_cgrammar.specs.Precedence.{Vocabulary, text_of, has_text}
use Rattle.vd_cgrammar.specs.Shallow.{walked, Shallow}
use Rattle.vd_cgrammar.specs.Standing.{IsToken, AreRead, spellings}
use Rattle.vd_cgrammar.proofs.Again.{first_read, both_read}
use Rattle.vd_cgrammar.proofs.CallsBack.{printed_of, call_cut, name_words, size_words}
use Rattle.vd_cgrammar.proofs.SameStatements.{words_at, source_words, assigned_words}
use Rattle.vd_cgrammar.proofs.Shallowness.{state, walked_append, shallow_parts, shallow_both}
use Rattle.vd_cgrammar.proofs.Starts.{append_nothing, Step, shown_of}
use Rattle.vd_cgrammar.proofs.StatementsBack.{name_first, other_first, jump_words, jump_text}
use Rattle.vd_reprint.proofs.Following.{Within, Follows, token_follows, words_moved, sign_follows, itself_follows, ended, headed, joined, lone, expression_follows, type_follows}

-- no operator is counted, and the last token is no `(`
record IsDivided (d : Depth) : Type 0 where
  operators_none : d.operators ≡ 0
  opened_none : d.is_opened ≡ false

module _ (V : Vocabulary) where
  -- The second words are nested no more deeply than the first behind a closing brace.
  record FollowsBlock (ws us : Words) : Type 0 where
    shallow : (most : ℕ) (d u : Depth) → Within u d → IsDivided u → Shallow V most d ws → Shallow V most u us
    ends : (d u : Depth) → Within u d → IsDivided u → Within (walked V u us) (walked V d ws)

  follows_block : {ws us : Words} → Follows V ws us → FollowsBlock ws us
  follows_block p = record { shallow = λ most d u h z. p.shallow most d u h; ends = λ d u h z. p.ends d u h }

  -- what ends with a closing brace, and what stands behind it
  behind_block : {ws us xs ys : Words} → Follows V ws us → ((u : Depth) → IsDivided (walked V u us)) → FollowsBlock xs ys → Follows V (ws ++ xs) (us ++ ys)
  behind_block {ws} {us} {xs} {ys} p z q = record {
    shallow = λ most d u h s.
        let parts = shallow_parts V most d ws xs s in
        shallow_both V most u us ys (p.shallow most d u h parts.0) (q.shallow most (walked V d ws) (walked V u us) (p.ends d u h) (z u) parts.1);
    ends = λ d u h.
        subst (λ w. Within w (walked V d (ws ++ xs))) (sym (walked_append V u us ys))
        (subst (λ w. Within (walked V (walked V u us) ys) w) (sym (walked_append V d ws xs)) (q.ends (walked V d ws) (walked V u us) (p.ends d u h) (z u)));
  }

  brace_divides : (d : Depth) → IsDivided (after (V.kind_at (codes "}")) d)
  brace_divides d = subst (λ q. IsDivided (after q d)) (sym (V.text_is k.RightBrace refl)) (record { operators_none = refl; opened_none = refl })

  block_divides : (ss : List Words) (u : Depth) → IsDivided (walked V u (block_words ss))
  block_divides ss u = subst IsDivided (sym (walked_append V u (codes "{" ∷ flat_map (λ s. s) ss) (one (codes "}")))) (brace_divides (walked V u (codes "{" ∷ flat_map (λ s. s) ss)))

  -- a token of a kind that has a text, for that text
  token_of_kind : (t : Lexeme) → IsToken V t t.spelling → has_text (text_of t.kind) ≡ true → Follows V (one t.spelling) (one (text_of t.kind))
  token_of_kind t i h = token_follows V t.spelling (text_of t.kind) (sym i.kind_is ∙ sym (V.text_is t.kind h))

  -- a block, and what stands behind it
  blocks_joined : {ts ys : List Lexeme} {us vs : Words} (xs ps : List Lexeme) → ts ≡ xs ++ ys → ys ≡ ps → Follows V (spellings xs) us → ((u : Depth) → IsDivided (walked V u us)) → FollowsBlock (spellings ps) vs
      → Follows V (spellings ts) (us ++ vs)
  blocks_joined {us = us} {vs = vs} xs ps cut h p z q =
      subst (λ y. Follows V (spellings y) (us ++ vs)) (sym (cut ∙ ap (λ y. xs ++ y) h))
      (subst (λ y. Follows V y (us ++ vs)) (sym (map-append (λ t. t.spelling) xs ps)) (behind_block p z q))

  -- `else { }` counts nothing behind a block
  empty_else_ends : (u : Depth) → IsDivided u → walked V u (codes "else" ∷ block_words []) ≡ u
  empty_else_ends u z =
      ap (λ q. walked V (after q u) (block_words [])) (V.text_is k.Else refl)
      ∙ (ap (λ q. walked V (after q (after k.Else u)) (one (codes "}"))) (V.text_is k.LeftBrace refl)
      ∙ (ap (λ q. after q (after k.LeftBrace (after k.Else u))) (V.text_is k.RightBrace refl) ∙ back_at))
    where
      back_at : after k.RightBrace (after k.LeftBrace (after k.Else u)) ≡ u
      back_at =
          let less : suc u.brackets - 1 ≡ u.brackets = omega arith in
          ap (λ n. state n 0 false) less ∙ (ap (λ n. state u.brackets n false) (sym z.operators_none) ∙ ap (λ f. state u.brackets u.operators f) (sym z.opened_none))

  otherwise_follows : {ws : Words} (xs : List Stmt) → Follows V ws (codes "else" ∷ block_words (map statement_words xs)) → FollowsBlock ws (else_words (map statement_words xs))
  otherwise_follows {ws} [] p = record {
    shallow = λ most d u h z s. tt;
    ends = λ d u h z. subst (λ y. Within y (walked V d ws)) (empty_else_ends u z) (p.ends d u h);
  }
  otherwise_follows (x ∷ xs) p = follows_block p

  -- what is shown of each sort
  Shown : (S : Sort) → List Lexeme → Value S → Type 0
  Shown (Statement inside) ts x = AreRead V ts → Follows V (spellings ts) (printed_of (Statement inside) x)
  Shown (Statements inside) ts xs = AreRead V ts → Follows V (spellings ts) (printed_of (Statements inside) xs)
  Shown (Block inside) ts xs = AreRead V ts → Follows V (spellings ts) (printed_of (Block inside) xs)
  Shown (Otherwise inside) ts xs = AreRead V ts → FollowsBlock (spellings ts) (printed_of (Otherwise inside) xs)
  Shown Returned ts x = AreRead V ts → Follows V (spellings ts) (printed_of Returned x)
  Shown Right ts r = AreRead V ts → Follows V (spellings ts) (printed_of Right r)
  Shown Special ts f = AreRead V ts → Follows V (spellings ts) (printed_of Special f)
  Shown Arguments ts xs = AreRead V ts → Follows V (spellings ts) (printed_of Arguments xs)
  Shown MoreArguments ts xs = AreRead V ts → Follows V (spellings ts) (printed_of MoreArguments xs)
  Shown AfterTarget ts n = (t : Lexeme) → has c.AnyName t.kind ≡ true → AreRead V (t ∷ ts) → Follows V (spellings (t ∷ ts)) (source_words (source_of t.place t.spelling n))
  Shown AfterName ts n = (t : Lexeme) → has c.AnyName t.kind ≡ true → AreRead V (t ∷ ts) → Follows V (spellings (t ∷ ts)) (statement_words (statement_of t.place t.spelling n))
  Shown _ ts v = Unit {0}

  -- ---- arguments

  no_argument_shown : Step Shown Rule.no_argument
  unfolding Shown
  no_argument_shown ts vs (us, cut, h, e) a = headed V cut (sign_follows V k.RightParen refl (first_read V cut a).0 h) (ended V e)

  last_argument_shown : Step Shown Rule.last_argument
  unfolding Shown
  last_argument_shown ts vs (us, cut, h, e) a = headed V cut (sign_follows V k.RightParen refl (first_read V cut a).0 h) (ended V e)

  first_argument_shown : Step Shown Rule.first_argument
  unfolding Shown
  first_argument_shown ts (x, (xs, _)) (ys, zs, cut, p, (vs, ws, cut2, q, e)) a =
      let a1 = both_read V cut a in
      let a2 = both_read V cut2 a1.1 in
      let more = flat_map (λ y. codes "," ∷ y) (map expression_words xs) in
      words_moved V (append_assoc (expression_words x) more (one (codes ")"))) (joined V _ _ cut (expression_follows V p.0 a1.0) (lone V _ cut2 e (q.1 a2.0)))

  next_argument_shown : Step Shown Rule.next_argument
  unfolding Shown
  next_argument_shown ts (comma, (x, (xs, _))) (us1, cut0, h, (ys, zs, cut, p, (vs, ws, cut2, q, e))) a =
      let a0 = first_read V cut0 a in
      let a1 = both_read V cut a0.1 in
      let a2 = both_read V cut2 a1.1 in
      let more = flat_map (λ y. codes "," ∷ y) (map expression_words xs) in
      words_moved V (ap (λ z. codes "," ∷ z) (append_assoc (expression_words x) more (one (codes ")"))))
      (headed V cut0 (sign_follows V k.Comma refl a0.0 h) (joined V _ _ cut (expression_follows V p.0 a1.0) (lone V _ cut2 e (q.1 a2.0))))

  -- ---- calls

  library_shown : Step Shown Rule.library
  unfolding Shown
  library_shown ts (f, (opening, (xs, _))) (us1, cut, h, (us2, cut2, g, (ys, zs, cut3, p, e))) a =
      let a1 = first_read V cut a in
      let a2 = first_read V cut2 a1.1 in
      let a3 = both_read V cut3 a2.1 in
      headed V cut (itself_follows V f.spelling) (headed V cut2 (sign_follows V k.LeftParen refl a2.0 g) (lone V _ cut3 e (p.1 a3.0)))

  spawn_shown : Step Shown Rule.spawn
  unfolding Shown
  spawn_shown ts (f, (opening, (x, (xs, _)))) (us1, cut, h, (us2, cut2, g, (us3, cut3, n, (ys, zs, cut4, p, e)))) a =
      let a1 = first_read V cut a in
      let a2 = first_read V cut2 a1.1 in
      let a3 = first_read V cut3 a2.1 in
      let a4 = both_read V cut4 a3.1 in
      let more = flat_map (λ y. codes "," ∷ y) (map expression_words xs) in
      words_moved V (ap (λ z. f.spelling ∷ codes "(" ∷ ((z ++ more) ++ one (codes ")"))) (name_words x.place x.spelling))
      (headed V cut (itself_follows V f.spelling) (headed V cut2 (sign_follows V k.LeftParen refl a2.0 g)
      (headed V cut3 (itself_follows V x.spelling) (lone V _ cut4 e (p.1 a4.0)))))

  malloc_shown : Step Shown Rule.malloc
  unfolding Shown
  malloc_shown ts (f, (o1, (size, (o2, (t, (c1, (c2, _))))))) (us1, cut, h, (us2, cut2, g, (us3, cut3, n, (us4, cut4, i, (xs, ys, cut5, p, (us5, cut6, j, (us6, cut7, l, n2))))))) a =
      let a1 = first_read V cut a in
      let a2 = first_read V cut2 a1.1 in
      let a3 = first_read V cut3 a2.1 in
      let a4 = first_read V cut4 a3.1 in
      let a5 = both_read V cut5 a4.1 in
      let a6 = first_read V cut6 a5.1 in
      let a7 = first_read V cut7 a6.1 in
      let close = one (codes ")") in
      let size_is : (expression_words (at size.place (e.SizeOf t)) ++ []) ++ close ≡ codes "sizeof" ∷ codes "(" ∷ (type_words t ++ codes ")" ∷ close) =
      append_assoc (expression_words (at size.place (e.SizeOf t))) [] close ∙ (ap (λ z. z ++ close) (size_words size.place t) ∙ ap (λ z. codes "sizeof" ∷ codes "(" ∷ z) (append_assoc (type_words t) close close)) in
      words_moved V (ap (λ z. f.spelling ∷ codes "(" ∷ z) size_is)
      (headed V cut (itself_follows V f.spelling) (headed V cut2 (sign_follows V k.LeftParen refl a2.0 g)
      (headed V cut3 (sign_follows V k.SizeOf refl a3.0 n) (headed V cut4 (sign_follows V k.LeftParen refl a4.0 i)
      (joined V _ _ cut5 (type_follows V p.0 a5.0) (headed V cut6 (sign_follows V k.RightParen refl a6.0 j) (headed V cut7 (sign_follows V k.RightParen refl a7.0 l) (ended V n2))))))))

  -- a name, arguments and a semicolon
  call_follows : {ts us1 us2 ys zs us3 : List Lexeme} (xs : List Expr) (t o semicolon : Lexeme) → ts ≡ t ∷ us1 → us1 ≡ o ∷ us2 → has (c.One k.LeftParen) o.kind ≡ true → us2 ≡ ys ++ zs
      → (AreRead V ys → Follows V (spellings ys) (printed_of Arguments xs)) → zs ≡ semicolon ∷ us3 → has (c.One k.Semicolon) semicolon.kind ≡ true → us3 ≡ [] → AreRead V ts
      → Follows V (spellings ts) (source_words (source.Call t.spelling xs))
  call_follows xs t o semicolon cut cut2 h cut3 p cut4 g e a =
      let a1 = first_read V cut a in
      let a2 = first_read V cut2 a1.1 in
      let a3 = both_read V cut3 a2.1 in
      let a4 = first_read V cut4 a3.1 in
      words_moved V (ap (λ z. t.spelling ∷ codes "(" ∷ z) (call_cut (listed (map expression_words xs))))
      (headed V cut (itself_follows V t.spelling) (headed V cut2 (sign_follows V k.LeftParen refl a2.0 h)
      (joined V _ _ cut3 (p a3.0) (headed V cut4 (sign_follows V k.Semicolon refl a4.0 g) (ended V e)))))

  called_source_shown : Step Shown Rule.called_source
  unfolding Shown
  called_source_shown ts (opening, (xs, (semicolon, _))) (us1, cut, h, (ys, zs, cut2, q, (us2, cut3, g, e))) t name a =
      call_follows xs t opening semicolon refl cut h cut2 q.1 cut3 g e a

  called_statement_shown : Step Shown Rule.called_statement
  unfolding Shown
  called_statement_shown ts (opening, (xs, (semicolon, _))) (us1, cut, h, (ys, zs, cut2, q, (us2, cut3, g, e))) t name a =
      words_moved V (words_at t.place (s.Call None t.spelling xs) _ (outs-Call None t.spelling xs)) (call_follows xs t opening semicolon refl cut h cut2 q.1 cut3 g e a)

  special_source_shown : Step Shown Rule.special_source
  unfolding Shown
  special_source_shown ts (f, (semicolon, _)) (xs, ys, cut, p, (zs, cut2, h, e)) a =
      let a1 = both_read V cut a in
      let a2 = first_read V cut2 a1.1 in
      words_moved V (ap (λ z. f.name ∷ codes "(" ∷ z) (call_cut (listed (map expression_words f.arguments))))
      (joined V _ _ cut (p.1 a1.0) (headed V cut2 (sign_follows V k.Semicolon refl a2.0 h) (ended V e)))

  special_statement_shown : (inside : Bool) → Step Shown (Rule.special_statement {inside = inside})
  unfolding Shown
  special_statement_shown inside ts (f, (semicolon, _)) (xs, ys, cut, p, (zs, cut2, h, e)) a =
      let a1 = both_read V cut a in
      let a2 = first_read V cut2 a1.1 in
      words_moved V (words_at f.place (s.Call None f.name f.arguments) _ (outs-Call None f.name f.arguments) ∙ ap (λ z. f.name ∷ codes "(" ∷ z) (call_cut (listed (map expression_words f.arguments))))
      (joined V _ _ cut (p.1 a1.0) (headed V cut2 (sign_follows V k.Semicolon refl a2.0 h) (ended V e)))

  -- ---- what is assigned

  -- an expression and a semicolon
  value_follows : {ts xs ys us : List Lexeme} {x : Expr} (semicolon : Lexeme) → ts ≡ xs ++ ys → Is grammar Expression xs x → ys ≡ semicolon ∷ us → has (c.One k.Semicolon) semicolon.kind ≡ true → us ≡ []
      → AreRead V ts → Follows V (spellings ts) (expression_words x ++ one (codes ";"))
  value_follows semicolon cut p cut2 h e a =
      let a1 = both_read V cut a in
      let a2 = first_read V cut2 a1.1 in
      joined V _ _ cut (expression_follows V p a1.0) (headed V cut2 (sign_follows V k.Semicolon refl a2.0 h) (ended V e))

  -- an expression, `=` and what is assigned
  assigned_follows : {ts xs ys us vs ns : List Lexeme} (x : Expr) (r : Source) (equals : Lexeme) → ts ≡ xs ++ ys → Is grammar Expression xs x → ys ≡ equals ∷ us → has (c.One k.Assign) equals.kind ≡ true
      → us ≡ vs ++ ns → (AreRead V vs → Follows V (spellings vs) (source_words r)) → ns ≡ [] → AreRead V ts → Follows V (spellings ts) (statement_words (assigned x r))
  assigned_follows x r equals cut p cut2 h cut3 q e a =
      let a1 = both_read V cut a in
      let a2 = first_read V cut2 a1.1 in
      let a3 = both_read V cut3 a2.1 in
      words_moved V (assigned_words x r) (joined V _ _ cut (expression_follows V p a1.0) (headed V cut2 (sign_follows V k.Assign refl a2.0 h) (lone V _ cut3 e (q a3.0))))

  operated_source_shown : Step Shown Rule.operated_source
  unfolding Shown
  operated_source_shown ts (ps, (os, (semicolon, _))) (xs, ys, cut, p, (zs, ws, cut2, q, (us, cut3, h, n2))) t name a =
      let whole : t ∷ ts ≡ (t ∷ (xs ++ zs)) ++ ws = ap (λ z. t ∷ z) (cut ∙ (ap (λ z. xs ++ z) cut2 ∙ sym (append_assoc xs zs ws))) in
      value_follows semicolon whole (name_first V t ps os name p.0 q.0) cut3 h n2 a

  other_source_shown : Step Shown Rule.other_source
  unfolding Shown
  other_source_shown ts (x, (os, (semicolon, _))) (xs, ys, cut, p, (zs, ws, cut2, q, (us, cut3, h, e))) a =
      let whole : ts ≡ (xs ++ zs) ++ ws = cut ∙ (ap (λ z. xs ++ z) cut2 ∙ sym (append_assoc xs zs ws)) in
      value_follows semicolon whole (other_first V x os p.0 q.0) cut3 h e a

  named_source_shown : Step Shown Rule.named_source
  unfolding Shown
  named_source_shown ts (t, (n, _)) (us, cut, h, (xs, ys, cut2, p, e)) a =
      let whole : ts ≡ t ∷ xs = cut ∙ ap (λ z. t ∷ z) (append_nothing cut2 e) in
      subst (λ z. Follows V (spellings z) (source_words (source_of t.place t.spelling n))) (sym whole) (p.1 t h (subst (AreRead V) whole a))

  assigned_statement_shown : Step Shown Rule.assigned_statement
  unfolding Shown
  assigned_statement_shown ts (ps, (os, (equals, (r, _)))) (xs, ys, cut, p, (zs, ws, cut2, q, (us, cut3, h, (vs, ns, cut4, m, n2)))) t name a =
      let whole : t ∷ ts ≡ (t ∷ (xs ++ zs)) ++ ws = ap (λ z. t ∷ z) (cut ∙ (ap (λ z. xs ++ z) cut2 ∙ sym (append_assoc xs zs ws))) in
      assigned_follows (grouped (behind t.place (e.Ident t.spelling) ps) os) r equals whole (name_first V t ps os name p.0 q.0) cut3 h cut4 m.1 n2 a

  other_statement_shown : (inside : Bool) → Step Shown (Rule.other_statement {inside = inside})
  unfolding Shown
  other_statement_shown inside ts (x, (os, (equals, (r, _)))) (xs, ys, cut, p, (zs, ws, cut2, q, (us, cut3, h, (vs, ns, cut4, m, e)))) a =
      let whole : ts ≡ (xs ++ zs) ++ ws = cut ∙ (ap (λ z. xs ++ z) cut2 ∙ sym (append_assoc xs zs ws)) in
      assigned_follows (grouped x os) r equals whole (other_first V x os p.0 q.0) cut3 h cut4 m.1 e a

  named_statement_shown : (inside : Bool) → Step Shown (Rule.named_statement {inside = inside})
  unfolding Shown
  named_statement_shown inside ts (t, (n, _)) (us, cut, h, (xs, ys, cut2, p, e)) a =
      let whole : ts ≡ t ∷ xs = cut ∙ ap (λ z. t ∷ z) (append_nothing cut2 e) in
      subst (λ z. Follows V (spellings z) (statement_words (statement_of t.place t.spelling n))) (sym whole) (p.1 t h (subst (AreRead V) whole a))

  -- ---- statements that a keyword begins

  skip_shown : (inside : Bool) → Step Shown (Rule.skip {inside = inside})
  unfolding Shown
  skip_shown inside ts (t, _) (us, cut, h, e) a =
      words_moved V (words_at t.place s.Skip _ outs-Skip) (headed V cut (sign_follows V k.Semicolon refl (first_read V cut a).0 h) (ended V e))

  jump_shown : Step Shown Rule.jump
  unfolding Shown
  jump_shown ts (t, (semicolon, _)) (us, cut, h, (us2, cut2, g, e)) a =
      let a1 = first_read V cut a in
      let a2 = first_read V cut2 a1.1 in
      words_moved V (jump_words V t.kind h t.place)
      (headed V cut (token_of_kind t a1.0 (jump_text V t.kind h)) (headed V cut2 (sign_follows V k.Semicolon refl a2.0 g) (ended V e)))

  no_value_shown : Step Shown Rule.no_value
  unfolding Shown
  no_value_shown ts vs (us, cut, h, e) a = headed V cut (sign_follows V k.Semicolon refl (first_read V cut a).0 h) (ended V e)

  value_shown : Step Shown Rule.value
  unfolding Shown
  value_shown ts (x, (semicolon, _)) (xs, ys, cut, p, (us, cut2, h, e)) a = value_follows semicolon cut p.0 cut2 h e a

  return_shown : (inside : Bool) → Step Shown (Rule.return {inside = inside})
  unfolding Shown
  return_shown inside ts (t, (x, _)) (us, cut, h, (xs, ys, cut2, p, e)) a =
      let a1 = first_read V cut a in
      let a2 = both_read V cut2 a1.1 in
      words_moved V (words_at t.place (s.Return x) _ (outs-Return x)) (headed V cut (sign_follows V k.Return refl a1.0 h) (lone V _ cut2 e (p.1 a2.0)))

  while_shown : (inside : Bool) → Step Shown (Rule.while {inside = inside})
  unfolding Shown
  while_shown inside ts (t, (opening, (x, (close, (xs, _))))) (us1, cut, h, (us2, cut2, g, (vs, ws, cut3, p, (us3, cut4, i, (ys, zs, cut5, q, e))))) a =
      let a1 = first_read V cut a in
      let a2 = first_read V cut2 a1.1 in
      let a3 = both_read V cut3 a2.1 in
      let a4 = first_read V cut4 a3.1 in
      let a5 = both_read V cut5 a4.1 in
      words_moved V (words_at t.place (s.While x xs) _ (outs-While x xs))
      (headed V cut (sign_follows V k.While refl a1.0 h) (headed V cut2 (sign_follows V k.LeftParen refl a2.0 g)
      (joined V _ _ cut3 (expression_follows V p.0 a3.0) (headed V cut4 (sign_follows V k.RightParen refl a4.0 i) (lone V _ cut5 e (q.1 a5.0))))))

  if_shown : (inside : Bool) → Step Shown (Rule.if_else {inside = inside})
  unfolding Shown
  if_shown inside ts (t, (opening, (x, (close, (xs, (os, _)))))) (us1, cut, h, (us2, cut2, g, (vs, ws, cut3, p, (us3, cut4, i, (ys, zs, cut5, q, (ps, ns, cut6, n, e)))))) a =
      let a1 = first_read V cut a in
      let a2 = first_read V cut2 a1.1 in
      let a3 = both_read V cut3 a2.1 in
      let a4 = first_read V cut4 a3.1 in
      let a5 = both_read V cut5 a4.1 in
      let a6 = both_read V cut6 a5.1 in
      let block = block_words (map statement_words xs) in
      let otherwise = else_words (map statement_words os) in
      words_moved V (words_at t.place (s.If x xs os) _ (outs-If x xs os) ∙ ap (λ z. codes "if" ∷ codes "(" ∷ z) (append_assoc (expression_words x) (codes ")" ∷ block) otherwise))
      (headed V cut (sign_follows V k.If refl a1.0 h) (headed V cut2 (sign_follows V k.LeftParen refl a2.0 g)
      (joined V _ _ cut3 (expression_follows V p.0 a3.0) (headed V cut4 (sign_follows V k.RightParen refl a4.0 i)
      (blocks_joined _ _ cut5 (append_nothing cut6 e) (q.1 a5.0) (block_divides (map statement_words xs)) (n.1 a6.0))))))

  -- ---- statements in a row

  last_statement_shown : (inside : Bool) → Step Shown (Rule.last_statement {inside = inside})
  unfolding Shown
  last_statement_shown inside ts vs (us, cut, h, e) a = headed V cut (sign_follows V k.RightBrace refl (first_read V cut a).0 h) (ended V e)

  next_statement_shown : (inside : Bool) → Step Shown (Rule.next_statement {inside = inside})
  unfolding Shown
  next_statement_shown inside ts (x, (xs, _)) (ys, zs, cut, p, (vs, ws, cut2, q, e)) a =
      let a1 = both_read V cut a in
      let a2 = both_read V cut2 a1.1 in
      words_moved V (append_assoc (statement_words x) (flat_map (λ z. z) (map statement_words xs)) (one (codes "}"))) (joined V _ _ cut (p.1 a1.0) (lone V _ cut2 e (q.1 a2.0)))

  block_shown : (inside : Bool) → Step Shown (Rule.block {inside = inside})
  unfolding Shown
  block_shown inside ts (t, (xs, _)) (us, cut, h, (ys, zs, cut2, p, e)) a =
      let a1 = first_read V cut a in
      let a2 = both_read V cut2 a1.1 in
      headed V cut (sign_follows V k.LeftBrace refl a1.0 h) (lone V _ cut2 e (p.1 a2.0))

  no_else_shown : (inside : Bool) → Step Shown (Rule.no_else {inside = inside})
  unfolding Shown
  no_else_shown inside ts vs e a = follows_block (ended V e)

  else_block_shown : (inside : Bool) → Step Shown (Rule.else_block {inside = inside})
  unfolding Shown
  else_block_shown inside ts (t, (xs, _)) (us, cut, h, (ys, zs, cut2, p, e)) a =
      let a1 = first_read V cut a in
      let a2 = both_read V cut2 a1.1 in
      otherwise_follows xs (headed V cut (sign_follows V k.Else refl a1.0 h) (lone V _ cut2 e (p.1 a2.0)))

  -- ---- every rule

  -- nothing is said of the other sorts
  abbrev is_other : Sort → Type 0
  is_other (Statement inside) = ⊥
  is_other (Statements inside) = ⊥
  is_other (Block inside) = ⊥
  is_other (Otherwise inside) = ⊥
  is_other Returned = ⊥
  is_other Right = ⊥
  is_other Special = ⊥
  is_other Arguments = ⊥
  is_other MoreArguments = ⊥
  is_other AfterTarget = ⊥
  is_other AfterName = ⊥
  is_other _ = Unit {0}

  other_shown : (S : Sort) → is_other S → (ts : List Lexeme) (v : Value S) → Shown S ts v
  unfolding Shown
  other_shown (Statement inside) h ts v = absurd h
  other_shown (Statements inside) h ts v = absurd h
  other_shown (Block inside) h ts v = absurd h
  other_shown (Otherwise inside) h ts v = absurd h
  other_shown Returned h ts v = absurd h
  other_shown Right h ts v = absurd h
  other_shown Special h ts v = absurd h
  other_shown Arguments h ts v = absurd h
  other_shown MoreArguments h ts v = absurd h
  other_shown AfterTarget h ts v = absurd h
  other_shown AfterName h ts v = absurd h
  other_shown _ h ts v = tt

  shown_rule : (S : Sort) (r : Rule S) → Step Shown r
  shown_rule _ Rule.no_argument ts vs m = no_argument_shown ts vs m
  shown_rule _ Rule.first_argument ts vs m = first_argument_shown ts vs m
  shown_rule _ Rule.last_argument ts vs m = last_argument_shown ts vs m
  shown_rule _ Rule.next_argument ts vs m = next_argument_shown ts vs m
  shown_rule _ Rule.malloc ts vs m = malloc_shown ts vs m
  shown_rule _ Rule.spawn ts vs m = spawn_shown ts vs m
  shown_rule _ Rule.library ts vs m = library_shown ts vs m
  shown_rule _ Rule.special_source ts vs m = special_source_shown ts vs m
  shown_rule _ Rule.named_source ts vs m = named_source_shown ts vs m
  shown_rule _ Rule.other_source ts vs m = other_source_shown ts vs m
  shown_rule _ Rule.called_source ts vs m = called_source_shown ts vs m
  shown_rule _ Rule.operated_source ts vs m = operated_source_shown ts vs m
  shown_rule _ Rule.called_statement ts vs m = called_statement_shown ts vs m
  shown_rule _ Rule.assigned_statement ts vs m = assigned_statement_shown ts vs m
  shown_rule _ Rule.no_value ts vs m = no_value_shown ts vs m
  shown_rule _ Rule.value ts vs m = value_shown ts vs m
  shown_rule _ Rule.skip ts vs m = skip_shown _ ts vs m
  shown_rule _ Rule.if_else ts vs m = if_shown _ ts vs m
  shown_rule _ Rule.while ts vs m = while_shown _ ts vs m
  shown_rule _ Rule.return ts vs m = return_shown _ ts vs m
  shown_rule _ Rule.special_statement ts vs m = special_statement_shown _ ts vs m
  shown_rule _ Rule.named_statement ts vs m = named_statement_shown _ ts vs m
  shown_rule _ Rule.other_statement ts vs m = other_statement_shown _ ts vs m
  shown_rule _ Rule.jump ts vs m = jump_shown ts vs m
  shown_rule _ Rule.last_statement ts vs m = last_statement_shown _ ts vs m
  shown_rule _ Rule.next_statement ts vs m = next_statement_shown _ ts vs m
  shown_rule _ Rule.block ts vs m = block_shown _ ts vs m
  shown_rule _ Rule.no_else ts vs m = no_else_shown _ ts vs m
  shown_rule _ Rule.else_block ts vs m = else_block_shown _ ts vs m
  shown_rule _ _ ts vs m = other_shown _ tt ts _

-- the statements up to a closing brace
pub body_follows : (V : Vocabulary) (inside : Bool) (xs : List Stmt) (ts : List Lexeme) → Is grammar (Statements inside) ts xs → AreRead V ts → Follows V (spellings ts) (printed_of (Statements inside) xs)
unfolding Shown
body_follows V inside xs ts p a = shown_of (Shown V) (shown_rule V) p a
