-- The tokens that are printed of a statement that is read are read as it, places apart.
use Rattle.std.proofs.Common.{ℕ, ◌≡◌, Bool, true, List, [], ◌∷◌, ◌++◌, map, flat_map, codes, None, Some, refl, sym, ◌∙◌, ap, subst, append_assoc}
use Rattle.std.proofs.lemmas.List.{append-nil}
use Rattle.vd_clight.specs.declared.syntax.Expr.{Expr}
use Rattle.vd_clight.specs.declared.syntax.ExprNode.TheVariants as e
use Rattle.vd_clight.specs.declared.syntax.Stmt.{Stmt}
use Rattle.vd_clight.specs.declared.syntax.StmtNode.TheVariants as s
use Rattle.vd_clight.specs.declared.syntax.StmtNode.TheVariants.{outs-Skip, outs-If, outs-While, outs-Break, outs-Continue, outs-Return}
use Rattle.vd_clight.specs.Printed.{one, expression_words, block_words, else_words, statement_words}
use Rattle.vd_grammar.specs.Grammar.{Is}
use Rattle.vd_cgrammar.specs.declared.kind.Kind.{Kind}
use Rattle.vd_cgrammar.specs.declared.kind.Kind.TheVariants as k
use Rattle.vd_cgrammar.specs.declared.kind.Class.TheVariants as c
use Rattle.vd_cgrammar.specs.declared.parts.Postfix.{Postfix}
use Rattle.vd_cgrammar.specs.declared.parts.Source.{Source}
use Rattle.vd_cgrammar.specs.declared.parts.Source.TheVariants as source
use Rattle.vd_cgrammar.specs.Kinds.{has}
use Rattle.vd_cgrammar.specs.Lexeme.{Lexeme}
use Rattle.vd_cgrammar.specs.Syntax.{behind, grouped, stmt_at, jump_of, assigned}
use Rattle.vd_cgrammar.specs.Grammar.{Sort, Value, Rule, grammar, Expression, Arguments, MoreArguments, Special, Right, AfterTarget, AfterName, Returned, Statement, Statements, Block, Otherwise, Plain, Postfixes, Operations}
use Rattle.vd_cgrammar.specs.Precedence.{Vocabulary, text_of, has_text}
use Rattle.vd_cgrammar.specs.Standing.{AreTokens, AreRead, StatementsReadBack}
use Rattle.vd_cgrammar.specs.Unplaced.{unplaced_statement}
use Rattle.vd_cgrammar.proofs.Again.{sign, first_read, both_read, expressed, source_is, assigned_is}
use Rattle.vd_cgrammar.proofs.ReadingBack.{split, first, nothing_left}
use Rattle.vd_cgrammar.proofs.SameStatements.{words_at, same_at_places, same_while, same_if, same_return, same_assigned, same_value_source, source_words, assigned_words}
use Rattle.vd_cgrammar.proofs.Starts.{put_together, append_nothing, started, Step, shown_of}
use Rattle.vd_cgrammar.proofs.CallsBack.{both_same, PrintsBack, Shown, no_argument_shown, last_argument_shown, first_argument_shown, next_argument_shown, called_statement_shown, called_source_shown, special_statement_shown, special_source_shown, library_shown, spawn_shown, malloc_shown}

module _ (V : Vocabulary) where
  -- ---- what is assigned

  value_back : {ts : List Lexeme} (x : Expr) → Is grammar Expression ts x → AreRead V ts → PrintsBack V Right (source.Value x)
  value_back x p a us b =
      let d = split V (expression_words x) (one (codes ";")) b in
      let r = expressed V p a d.left in
      let l = first V d.right in
      record {
        value = source.Value r.value;
        is = source_is l.token (started r.is) (d.cut ∙ ap (λ z. d.front ++ z) (l.cut ∙ ap (λ z. l.token ∷ z) (nothing_left V l.others))) (sign V k.Semicolon refl l.is);
        same = same_value_source r.value x r.same;
      }

  assigned_back : (inside : Bool) {ts : List Lexeme} (x : Expr) (r : Source) → Is grammar Expression ts x → AreRead V ts → PrintsBack V Right r → PrintsBack V (Statement inside) (assigned x r)
  assigned_back inside x r p a q us b =
      let d = split V (expression_words x) (codes "=" ∷ source_words r) (subst (AreTokens V us) (assigned_words x r) b) in
      let l = expressed V p a d.left in
      let f = first V d.right in
      let m = q f.rest f.others in
      record {
        value = assigned l.value m.value;
        is = assigned_is inside f.token (started l.is) (d.cut ∙ ap (λ z. d.front ++ z) f.cut) (sign V k.Assign refl f.is) m.is;
        same = same_assigned l.value x m.value r l.same m.same;
      }

  -- an expression that begins with a name
  pub name_first : {xs ys : List Lexeme} (t : Lexeme) (ps : List Postfix) (os : List (Kind × Expr)) → has c.AnyName t.kind ≡ true → Is grammar Postfixes xs ps → Is grammar Operations ys os
      → Is grammar Expression (t ∷ (xs ++ ys)) (grouped (behind t.place (e.Ident t.spelling) ps) os)
  name_first {xs = xs} {ys = ys} t ps os h p q =
      put_together Rule.expression (t ∷ (xs ++ ys)) (behind t.place (e.Ident t.spelling) ps, (os, tt))
      (t ∷ xs, ys, refl, put_together Rule.name (t ∷ xs) (t, (ps, tt)) (xs, refl, h, (xs, [], sym (append-nil xs), p, refl)), (ys, [], sym (append-nil ys), q, refl))

  -- an expression that begins otherwise
  pub other_first : {xs ys : List Lexeme} (x : Expr) (os : List (Kind × Expr)) → Is grammar Plain xs x → Is grammar Operations ys os → Is grammar Expression (xs ++ ys) (grouped x os)
  other_first {xs = xs} {ys = ys} x os p q =
      put_together Rule.expression (xs ++ ys) (x, (os, tt)) (xs, ys, refl, put_together Rule.other_operand xs (x, tt) (xs, [], sym (append-nil xs), p, refl), (ys, [], sym (append-nil ys), q, refl))

  operated_source_shown : Step (Shown V) Rule.operated_source
  unfolding Shown
  operated_source_shown ts (ps, (os, (semicolon, _))) (xs, ys, cut, p, (zs, ws, cut2, q, m)) t name a =
      let whole : t ∷ ts ≡ (t ∷ (xs ++ zs)) ++ ws = ap (λ z. t ∷ z) (cut ∙ (ap (λ z. xs ++ z) cut2 ∙ sym (append_assoc xs zs ws))) in
      value_back (grouped (behind t.place (e.Ident t.spelling) ps) os) (name_first t ps os name p.0 q.0) (both_read V {xs = t ∷ (xs ++ zs)} {ys = ws} whole a).0

  other_source_shown : Step (Shown V) Rule.other_source
  unfolding Shown
  other_source_shown ts (x, (os, (semicolon, _))) (xs, ys, cut, p, (zs, ws, cut2, q, m)) a =
      let whole : ts ≡ (xs ++ zs) ++ ws = cut ∙ (ap (λ z. xs ++ z) cut2 ∙ sym (append_assoc xs zs ws)) in
      value_back (grouped x os) (other_first x os p.0 q.0) (both_read V {xs = xs ++ zs} {ys = ws} whole a).0

  named_source_shown : Step (Shown V) Rule.named_source
  unfolding Shown
  named_source_shown ts (t, (n, _)) (us, cut, h, (xs, ys, cut2, p, e)) a = p.1 t h (subst (AreRead V) (cut ∙ ap (λ z. t ∷ z) (append_nothing cut2 e)) a)

  assigned_statement_shown : Step (Shown V) Rule.assigned_statement
  unfolding Shown
  assigned_statement_shown ts (ps, (os, (equals, (r, _)))) (xs, ys, cut, p, (zs, ws, cut2, q, (us, cut3, h, (vs, ns, cut4, m, _)))) t name a inside =
      let whole : t ∷ ts ≡ (t ∷ (xs ++ zs)) ++ ws = ap (λ z. t ∷ z) (cut ∙ (ap (λ z. xs ++ z) cut2 ∙ sym (append_assoc xs zs ws))) in
      let a1 = both_read V {xs = t ∷ (xs ++ zs)} {ys = ws} whole a in
      let a2 = both_read V cut4 (first_read V cut3 a1.1).1 in
      assigned_back inside (grouped (behind t.place (e.Ident t.spelling) ps) os) r (name_first t ps os name p.0 q.0) a1.0 (m.1 a2.0)

  other_statement_shown : (inside : Bool) → Step (Shown V) (Rule.other_statement {inside = inside})
  unfolding Shown
  other_statement_shown inside ts (x, (os, (equals, (r, _)))) (xs, ys, cut, p, (zs, ws, cut2, q, (us, cut3, h, (vs, ns, cut4, m, _)))) a =
      let whole : ts ≡ (xs ++ zs) ++ ws = cut ∙ (ap (λ z. xs ++ z) cut2 ∙ sym (append_assoc xs zs ws)) in
      let a1 = both_read V {xs = xs ++ zs} {ys = ws} whole a in
      let a2 = both_read V cut4 (first_read V cut3 a1.1).1 in
      assigned_back inside (grouped x os) r (other_first x os p.0 q.0) a1.0 (m.1 a2.0)

  named_statement_shown : (inside : Bool) → Step (Shown V) (Rule.named_statement {inside = inside})
  unfolding Shown
  named_statement_shown inside ts (t, (n, _)) (us, cut, h, (xs, ys, cut2, p, e)) a = p.1 t h (subst (AreRead V) (cut ∙ ap (λ z. t ∷ z) (append_nothing cut2 e)) a) inside

  -- ---- statements that a keyword begins

  skip_shown : (inside : Bool) → Step (Shown V) (Rule.skip {inside = inside})
  unfolding Shown
  skip_shown inside ts (t, _) m a us b =
      let f = first V (subst (AreTokens V us) (words_at t.place s.Skip _ outs-Skip) b) in
      record {
        value = stmt_at f.token.place s.Skip;
        is = put_together (Rule.skip {inside = inside}) us (f.token, tt) (f.rest, f.cut, sign V k.Semicolon refl f.is, nothing_left V f.others);
        same = same_at_places f.token.place t.place s.Skip;
      }

  pub jump_words : (kind : Kind) → has c.Jump kind ≡ true → (place : ℕ) → statement_words (stmt_at place (jump_of kind)) ≡ text_of kind ∷ one (codes ";")
  jump_words k.Break h place = words_at place s.Break _ outs-Break
  jump_words k.Continue h place = words_at place s.Continue _ outs-Continue
  jump_words _ h place = cc

  pub jump_text : (kind : Kind) → has c.Jump kind ≡ true → has_text (text_of kind) ≡ true
  jump_text k.Break h = refl
  jump_text k.Continue h = refl
  jump_text _ h = cc

  jump_shown : Step (Shown V) Rule.jump
  unfolding Shown
  jump_shown ts (t, (semicolon, _)) (us1, cut, h, m) a us b =
      let f = first V (subst (AreTokens V us) (jump_words t.kind h t.place) b) in
      let l = first V f.others in
      let kind : f.token.kind ≡ t.kind = f.is.kind_is ∙ V.text_is t.kind (jump_text t.kind h) in
      record {
        value = stmt_at f.token.place (jump_of f.token.kind);
        is = put_together Rule.jump us (f.token, (l.token, tt)) (f.rest, f.cut, ap (has c.Jump) kind ∙ h, (l.rest, l.cut, sign V k.Semicolon refl l.is, nothing_left V l.others));
        same = ap (λ q. unplaced_statement (stmt_at f.token.place (jump_of q))) kind ∙ same_at_places f.token.place t.place (jump_of t.kind);
      }

  no_value_shown : Step (Shown V) Rule.no_value
  unfolding Shown
  no_value_shown ts vs m a us b =
      let f = first V b in
      record { value = None; is = put_together Rule.no_value us (f.token, tt) (f.rest, f.cut, sign V k.Semicolon refl f.is, nothing_left V f.others); same = refl }

  value_shown : Step (Shown V) Rule.value
  unfolding Shown
  value_shown ts (x, (semicolon, _)) (xs, ys, cut, p, m) a us b =
      let d = split V (expression_words x) (one (codes ";")) b in
      let r = expressed V p.0 (both_read V cut a).0 d.left in
      let f = first V d.right in
      record {
        value = Some r.value;
        is = put_together Rule.value us (r.value, (f.token, tt)) (d.front, d.back, d.cut, r.is, (f.rest, f.cut, sign V k.Semicolon refl f.is, nothing_left V f.others));
        same = ap Some r.same;
      }

  return_shown : (inside : Bool) → Step (Shown V) (Rule.return {inside = inside})
  unfolding Shown
  return_shown inside ts (t, (x, _)) (us1, cut, h, (xs, ys, cut2, p, m)) a us b =
      let a1 = first_read V cut a in
      let f = first V (subst (AreTokens V us) (words_at t.place (s.Return x) _ (outs-Return x)) b) in
      let r = p.1 (both_read V cut2 a1.1).0 f.rest f.others in
      record {
        value = stmt_at f.token.place (s.Return r.value);
        is = put_together (Rule.return {inside = inside}) us (f.token, (r.value, tt)) (f.rest, f.cut, sign V k.Return refl f.is, (f.rest, [], sym (append-nil f.rest), r.is, refl));
        same = same_return f.token.place t.place r.value x r.same;
      }

  while_shown : (inside : Bool) → Step (Shown V) (Rule.while {inside = inside})
  unfolding Shown
  while_shown inside ts (t, (opening, (x, (close, (xs, _))))) (us1, cut, h, (us2, cut2, g, (vs, ws, cut3, p, (us3, cut4, i, (ys, zs, cut5, q, m))))) a us b =
      let a1 = first_read V cut a in
      let a2 = first_read V cut2 a1.1 in
      let a3 = both_read V cut3 a2.1 in
      let a4 = first_read V cut4 a3.1 in
      let a5 = both_read V cut5 a4.1 in
      let f = first V (subst (AreTokens V us) (words_at t.place (s.While x xs) _ (outs-While x xs)) b) in
      let o = first V f.others in
      let d = split V (expression_words x) (codes ")" ∷ block_words (map statement_words xs)) o.others in
      let y = expressed V p.0 a3.0 d.left in
      let l = first V d.right in
      let r = q.1 a5.0 l.rest l.others in
      record {
        value = stmt_at f.token.place (s.While y.value r.value);
        is = put_together (Rule.while {inside = inside}) us (f.token, (o.token, (y.value, (l.token, (r.value, tt))))) (
          f.rest,
          f.cut,
          sign V k.While refl f.is,
          (
            o.rest,
            o.cut,
            sign V k.LeftParen refl o.is,
            (
              d.front,
              d.back,
              d.cut,
              y.is,
              (l.rest, l.cut, sign V k.RightParen refl l.is, (l.rest, [], sym (append-nil l.rest), r.is, refl)),
            ),
          ),
        );
        same = same_while f.token.place t.place y.value x y.same r.value xs r.same;
      }

  if_shown : (inside : Bool) → Step (Shown V) (Rule.if_else {inside = inside})
  unfolding Shown
  if_shown inside ts (t, (opening, (x, (close, (xs, (os, _)))))) (us1, cut, h, (us2, cut2, g, (vs, ws, cut3, p, (us3, cut4, i, (ys, zs, cut5, q, (ps, ns, cut6, n, m)))))) a us b =
      let a1 = first_read V cut a in
      let a2 = first_read V cut2 a1.1 in
      let a3 = both_read V cut3 a2.1 in
      let a4 = first_read V cut4 a3.1 in
      let a5 = both_read V cut5 a4.1 in
      let a6 = both_read V cut6 a5.1 in
      let f = first V (subst (AreTokens V us) (words_at t.place (s.If x xs os) _ (outs-If x xs os)) b) in
      let o = first V f.others in
      let block = block_words (map statement_words xs) in
      let otherwise = else_words (map statement_words os) in
      let d = split V (expression_words x) (codes ")" ∷ (block ++ otherwise)) (subst (AreTokens V o.rest) (append_assoc (expression_words x) (codes ")" ∷ block) otherwise) o.others) in
      let y = expressed V p.0 a3.0 d.left in
      let l = first V d.right in
      let j = split V block otherwise l.others in
      let r = q.1 a5.0 j.front j.left in
      let w = n.1 a6.0 j.back j.right in
      record {
        value = stmt_at f.token.place (s.If y.value r.value w.value);
        is = put_together (Rule.if_else {inside = inside}) us (f.token, (o.token, (y.value, (l.token, (r.value, (w.value, tt)))))) (
          f.rest,
          f.cut,
          sign V k.If refl f.is,
          (
            o.rest,
            o.cut,
            sign V k.LeftParen refl o.is,
            (
              d.front,
              d.back,
              d.cut,
              y.is,
              (l.rest, l.cut, sign V k.RightParen refl l.is, (j.front, j.back, j.cut, r.is, (j.back, [], sym (append-nil j.back), w.is, refl))),
            ),
          ),
        );
        same = same_if f.token.place t.place y.value x y.same r.value xs r.same w.value os w.same;
      }

  -- ---- statements in a row

  last_statement_shown : (inside : Bool) → Step (Shown V) (Rule.last_statement {inside = inside})
  unfolding Shown
  last_statement_shown inside ts vs m a us b =
      let f = first V b in
      record { value = []; is = put_together (Rule.last_statement {inside = inside}) us (f.token, tt) (f.rest, f.cut, sign V k.RightBrace refl f.is, nothing_left V f.others); same = refl }

  next_statement_shown : (inside : Bool) → Step (Shown V) (Rule.next_statement {inside = inside})
  unfolding Shown
  next_statement_shown inside ts (x, (xs, _)) (ys, zs, cut, p, (vs, ws, cut2, q, m)) a us b =
      let a1 = both_read V cut a in
      let a2 = both_read V cut2 a1.1 in
      let more = flat_map (λ z. z) (map statement_words xs) in
      let d = split V (statement_words x) (more ++ one (codes "}")) (subst (AreTokens V us) (append_assoc (statement_words x) more (one (codes "}"))) b) in
      let l = p.1 a1.0 d.front d.left in
      let r = q.1 a2.0 d.back d.right in
      record {
        value = l.value ∷ r.value;
        is = put_together (Rule.next_statement {inside = inside}) us (l.value, (r.value, tt)) (d.front, d.back, d.cut, l.is, (d.back, [], sym (append-nil d.back), r.is, refl));
        same = both_same (unplaced_statement l.value) (unplaced_statement x) (map unplaced_statement r.value) (map unplaced_statement xs) l.same r.same;
      }

  block_shown : (inside : Bool) → Step (Shown V) (Rule.block {inside = inside})
  unfolding Shown
  block_shown inside ts (t, (xs, _)) (us1, cut, h, (ys, zs, cut2, p, m)) a us b =
      let a1 = first_read V cut a in
      let f = first V b in
      let r = p.1 (both_read V cut2 a1.1).0 f.rest f.others in
      record {
        value = r.value;
        is = put_together (Rule.block {inside = inside}) us (f.token, (r.value, tt)) (f.rest, f.cut, sign V k.LeftBrace refl f.is, (f.rest, [], sym (append-nil f.rest), r.is, refl));
        same = r.same;
      }

  -- an empty `else` is left out
  otherwise_back : (inside : Bool) (xs : List Stmt) → PrintsBack V (Block inside) xs → PrintsBack V (Otherwise inside) xs
  otherwise_back inside [] p us b = record { value = []; is = put_together (Rule.no_else {inside = inside}) us tt (nothing_left V b); same = refl }
  otherwise_back inside (x ∷ xs) p us b =
      let f = first V b in
      let r = p f.rest f.others in
      record {
        value = r.value;
        is = put_together (Rule.else_block {inside = inside}) us (f.token, (r.value, tt)) (f.rest, f.cut, sign V k.Else refl f.is, (f.rest, [], sym (append-nil f.rest), r.is, refl));
        same = r.same;
      }

  no_else_shown : (inside : Bool) → Step (Shown V) (Rule.no_else {inside = inside})
  unfolding Shown
  no_else_shown inside ts vs m a us b = record { value = []; is = put_together (Rule.no_else {inside = inside}) us tt (nothing_left V b); same = refl }

  else_block_shown : (inside : Bool) → Step (Shown V) (Rule.else_block {inside = inside})
  unfolding Shown
  else_block_shown inside ts (t, (xs, _)) (us1, cut, h, (ys, zs, cut2, p, m)) a = otherwise_back inside xs (p.1 (both_read V cut2 (first_read V cut a).1).0)

  -- ---- every rule

  -- nothing is said of the other sorts
  abbrev is_other : Sort → Type 0
  is_other (Statement inside) = ⊥
  is_other (Statements inside) = ⊥
  is_other (Block inside) = ⊥
  is_other (Otherwise inside) = ⊥
  is_other Returned = ⊥
  is_other Right = ⊥
  is_other Special = ⊥
  is_other Arguments = ⊥
  is_other MoreArguments = ⊥
  is_other AfterTarget = ⊥
  is_other AfterName = ⊥
  is_other _ = Unit {0}

  other_shown : (S : Sort) → is_other S → (ts : List Lexeme) (v : Value S) → Shown V S ts v
  unfolding Shown
  other_shown (Statement inside) h ts v = absurd h
  other_shown (Statements inside) h ts v = absurd h
  other_shown (Block inside) h ts v = absurd h
  other_shown (Otherwise inside) h ts v = absurd h
  other_shown Returned h ts v = absurd h
  other_shown Right h ts v = absurd h
  other_shown Special h ts v = absurd h
  other_shown Arguments h ts v = absurd h
  other_shown MoreArguments h ts v = absurd h
  other_shown AfterTarget h ts v = absurd h
  other_shown AfterName h ts v = absurd h
  other_shown _ h ts v = tt

  shown_rule : (S : Sort) (r : Rule S) → Step (Shown V) r
  shown_rule _ Rule.no_argument ts vs m = no_argument_shown V ts vs m
  shown_rule _ Rule.first_argument ts vs m = first_argument_shown V ts vs m
  shown_rule _ Rule.last_argument ts vs m = last_argument_shown V ts vs m
  shown_rule _ Rule.next_argument ts vs m = next_argument_shown V ts vs m
  shown_rule _ Rule.malloc ts vs m = malloc_shown V ts vs m
  shown_rule _ Rule.spawn ts vs m = spawn_shown V ts vs m
  shown_rule _ Rule.library ts vs m = library_shown V ts vs m
  shown_rule _ Rule.special_source ts vs m = special_source_shown V ts vs m
  shown_rule _ Rule.named_source ts vs m = named_source_shown ts vs m
  shown_rule _ Rule.other_source ts vs m = other_source_shown ts vs m
  shown_rule _ Rule.called_source ts vs m = called_source_shown V ts vs m
  shown_rule _ Rule.operated_source ts vs m = operated_source_shown ts vs m
  shown_rule _ Rule.called_statement ts vs m = called_statement_shown V ts vs m
  shown_rule _ Rule.assigned_statement ts vs m = assigned_statement_shown ts vs m
  shown_rule _ Rule.no_value ts vs m = no_value_shown ts vs m
  shown_rule _ Rule.value ts vs m = value_shown ts vs m
  shown_rule _ Rule.skip ts vs m = skip_shown _ ts vs m
  shown_rule _ Rule.if_else ts vs m = if_shown _ ts vs m
  shown_rule _ Rule.while ts vs m = while_shown _ ts vs m
  shown_rule _ Rule.return ts vs m = return_shown _ ts vs m
  shown_rule _ Rule.special_statement ts vs m = special_statement_shown V _ ts vs m
  shown_rule _ Rule.named_statement ts vs m = named_statement_shown _ ts vs m
  shown_rule _ Rule.other_statement ts vs m = other_statement_shown _ ts vs m
  shown_rule _ Rule.jump ts vs m = jump_shown ts vs m
  shown_rule _ Rule.last_statement ts vs m = last_statement_shown _ ts vs m
  shown_rule _ Rule.next_statement ts vs m = next_statement_shown _ ts vs m
  shown_rule _ Rule.block ts vs m = block_shown _ ts vs m
  shown_rule _ Rule.no_else ts vs m = no_else_shown _ ts vs m
  shown_rule _ Rule.else_block ts vs m = else_block_shown _ ts vs m
  shown_rule _ _ ts vs m = other_shown _ tt ts _

pub statement_back : (V : Vocabulary) (inside : Bool) (x : Stmt) (ts : List Lexeme) → Is grammar (Statement inside) ts x → AreRead V ts → PrintsBack V (Statement inside) x
unfolding Shown
statement_back V inside x ts p a = shown_of (Shown V) (shown_rule V) p a

pub body_back : (V : Vocabulary) (inside : Bool) (xs : List Stmt) (ts : List Lexeme) → Is grammar (Statements inside) ts xs → AreRead V ts → PrintsBack V (Statements inside) xs
unfolding Shown
body_back V inside xs ts p a = shown_of (Shown V) (shown_rule V) p a

pub statements_read_back : StatementsReadBack
statements_read_back V inside x ts us p a b = let r = statement_back V inside x ts p a us b in record { value = r.value; is = r.is; same = r.same }
