-- What is printed of a function that is read is nested no more deeply than its tokens.
use Rattle.std.proofs.Common.{◌≡◌, true, false, List, [], ◌∷◌, ◌++◌, map, flat_map, codes, refl, sym, ◌∙◌, ap, subst}
use Rattle.std.proofs.lemmas.List.Folds.{flat_map-map}
use Rattle.vd_base.specs.declared.ctype.CType.{CType}
use Rattle.vd_base.specs.declared.ctype.Field.{Field}
use Rattle.vd_clight.specs.declared.syntax.FnText.{FnText}
use Rattle.vd_clight.specs.Printed.{one, type_words, field_words, parameter_words, declaration_words, statement_words, function_words}
use Rattle.vd_grammar.specs.Grammar.{Is}
use Rattle.vd_cgrammar.specs.declared.kind.Kind.TheVariants as k
use Rattle.vd_cgrammar.specs.declared.kind.Class.TheVariants as c
use Rattle.vd_cgrammar.specs.Kinds.{has}
use Rattle.vd_cgrammar.specs.Lexeme.{Lexeme}
use Rattle.vd_cgrammar.specs.Syntax.{field_of}
use Rattle.vd_cgrammar.specs.Grammar.{Sort, Value, Rule, grammar, Function, Parameters, AfterVoid, MoreParameters, Declarations, Type_}
use Rattle.vd_cgrammar.specs.Precedence.{Vocabulary}
use Rattle.vd_cgrammar.specs.Standing.{AreRead, spellings}
use Rattle.vd_cgrammar.proofs.Again.{first_read, both_read}
use Rattle.vd_cgrammar.proofs.FunctionsBack.{printed_of, field_cut, function_cut, filled_is_type, void_is_type}
use Rattle.vd_cgrammar.proofs.Spelled.{type_is_spelled}
use Rattle.vd_cgrammar.proofs.Starts.{append_nothing, Step, shown_of}
use Rattle.vd_reprint.proofs.Following.{Follows, words_moved, sign_follows, itself_follows, ended, headed, joined, lone, type_follows}
use Rattle.vd_reprint.proofs.SpacedLines.{Begins, begins_more, type_begins}
use Rattle.vd_reprint.proofs.StatementsFollow.{body_follows}

module _ (V : Vocabulary) where
  -- what is shown of each sort
  Shown : (S : Sort) → List Lexeme → Value S → Type 0
  Shown Parameters ts ps = AreRead V ts → Follows V (spellings ts) (printed_of Parameters ps)
  Shown MoreParameters ts ps = AreRead V ts → Follows V (spellings ts) (printed_of MoreParameters ps)
  Shown Declarations ts ds = AreRead V ts → Follows V (spellings ts) (printed_of Declarations ds)
  Shown AfterVoid ts ps = (w : Lexeme) → has (c.One k.Void) w.kind ≡ true → AreRead V (w ∷ ts) → Follows V (spellings (w ∷ ts)) (printed_of Parameters ps)
  Shown Function ts f = AreRead V ts → Follows V (spellings ts) (function_words f) × Begins (function_words f)
  Shown _ ts v = Unit {0}

  -- ---- parameters

  -- a type, a name and what follows
  field_follows : {ts xs ys us zs ws : List Lexeme} {t : CType} (ps : List Field) (x : Lexeme) → ts ≡ xs ++ ys → Is grammar Type_ xs t → ys ≡ x ∷ us → us ≡ zs ++ ws
      → (AreRead V zs → Follows V (spellings zs) (printed_of MoreParameters ps)) → ws ≡ [] → AreRead V ts → Follows V (spellings ts) (printed_of Parameters (field_of x.spelling t ∷ ps))
  field_follows {t = t} ps x cut p cut2 cut3 q e a =
      let a1 = both_read V cut a in
      let a2 = first_read V cut2 a1.1 in
      let a3 = both_read V cut3 a2.1 in
      let more = flat_map (λ y. codes "," ∷ y) (map field_words ps) in
      words_moved V (field_cut (type_words t) x.spelling more (one (codes ")"))) (joined V _ _ cut (type_follows V p a1.0) (headed V cut2 (itself_follows V x.spelling) (lone V _ cut3 e (q a3.0))))

  last_parameter_shown : Step Shown Rule.last_parameter
  unfolding Shown
  last_parameter_shown ts vs (us, cut, h, e) a = headed V cut (sign_follows V k.RightParen refl (first_read V cut a).0 h) (ended V e)

  next_parameter_shown : Step Shown Rule.next_parameter
  unfolding Shown
  next_parameter_shown ts (comma, (t, (x, (ps, _)))) (us1, cut, h, (xs, ys, cut2, p, (us2, cut3, n, (zs, ws, cut4, q, e)))) a =
      let a1 = first_read V cut a in
      let a2 = both_read V cut2 a1.1 in
      let a3 = first_read V cut3 a2.1 in
      let a4 = both_read V cut4 a3.1 in
      let more = flat_map (λ y. codes "," ∷ y) (map field_words ps) in
      words_moved V (ap (λ z. codes "," ∷ z) (field_cut (type_words t) x.spelling more (one (codes ")"))))
      (headed V cut (sign_follows V k.Comma refl a1.0 h) (joined V _ _ cut2 (type_follows V p.0 a2.0) (headed V cut3 (itself_follows V x.spelling) (lone V _ cut4 e (q.1 a4.0)))))

  void_first_shown : Step Shown Rule.void_first
  unfolding Shown
  void_first_shown ts (w, (ps, _)) (us, cut, h, (xs, ys, cut2, p, e)) a =
      let whole : ts ≡ w ∷ xs = cut ∙ ap (λ z. w ∷ z) (append_nothing cut2 e) in
      subst (λ z. Follows V (spellings z) (printed_of Parameters ps)) (sym whole) (p.1 w h (subst (AreRead V) whole a))

  filled_first_shown : Step Shown Rule.filled_first
  unfolding Shown
  filled_first_shown ts (t, (x, (ps, _))) (xs, ys, cut, p, (us1, cut2, n, (zs, ws, cut3, q, e))) a = field_follows ps x cut (filled_is_type V p.0) cut2 cut3 q.1 e a

  no_parameter_shown : Step Shown Rule.no_parameter
  unfolding Shown
  no_parameter_shown ts vs (us, cut, h, e) w g a =
      let a1 = first_read V {t = w} refl a in
      headed V {t = w} refl (sign_follows V k.Void refl a1.0 g) (headed V cut (sign_follows V k.RightParen refl (first_read V cut a1.1).0 h) (ended V e))

  void_parameter_shown : Step Shown Rule.void_parameter
  unfolding Shown
  void_parameter_shown ts (t, (x, (ps, _))) (xs, ys, cut, p, (us1, cut2, n, (zs, ws, cut3, q, e))) w h a =
      field_follows {xs = w ∷ xs} ps x (ap (λ z. w ∷ z) cut) (void_is_type V p.0 w h) cut2 cut3 q.1 e a

  -- ---- temporaries

  no_declaration_shown : Step Shown Rule.no_declaration
  unfolding Shown
  no_declaration_shown ts vs e a = ended V e

  declaration_shown : Step Shown Rule.declaration
  unfolding Shown
  declaration_shown ts (t, (x, (semicolon, (ds, _)))) (xs, ys, cut, p, (us1, cut2, n, (us2, cut3, h, (zs, ws, cut4, q, e)))) a =
      let a1 = both_read V cut a in
      let a2 = first_read V cut2 a1.1 in
      let a3 = first_read V cut3 a2.1 in
      let a4 = both_read V cut4 a3.1 in
      words_moved V (field_cut (type_words t) x.spelling (one (codes ";")) (flat_map declaration_words ds))
      (joined V _ _ cut (type_follows V p.0 a1.0) (headed V cut2 (itself_follows V x.spelling) (headed V cut3 (sign_follows V k.Semicolon refl a3.0 h) (lone V _ cut4 e (q.1 a4.0)))))

  -- ---- functions

  function_shown : Step Shown Rule.function
  unfolding Shown
  function_shown ts (t, (f, (opening, (ps, (brace, (ds, (ss, _))))))) (xs, ys, cut, p, (us1, cut2, n, (us2, cut3, h, (zs, ws, cut4, q, (us3, cut5, g, (vs, ms, cut6, r, (qs, ns, cut7, x, e))))))) a =
      let a1 = both_read V cut a in
      let a2 = first_read V cut2 a1.1 in
      let a3 = first_read V cut3 a2.1 in
      let a4 = both_read V cut4 a3.1 in
      let a5 = first_read V cut5 a4.1 in
      let a6 = both_read V cut6 a5.1 in
      let a7 = both_read V cut7 a6.1 in
      let end = one (codes "}") in
      let body = words_moved V (ap (λ z. z ++ end) (sym (flat_map-map (λ z. z) statement_words ss))) (body_follows V false ss qs x.0 a7.0) in
      let whole = function_cut (type_words t) f.spelling (parameter_words ps) (flat_map declaration_words ds) (flat_map statement_words ss) end in (
        words_moved V whole
            (joined V _ _ cut (type_follows V p.0 a1.0) (headed V cut2 (itself_follows V f.spelling) (headed V cut3 (sign_follows V k.LeftParen refl a3.0 h)
            (joined V _ _ cut4 (q.1 a4.0) (headed V cut5 (sign_follows V k.LeftBrace refl a5.0 g) (joined V _ _ cut6 (r.1 a6.0) (lone V _ cut7 e body))))))),
        subst Begins (sym whole) (begins_more (type_begins V (type_is_spelled V t xs p.0 a1.0)) _),
      )

  -- ---- every rule

  -- nothing is said of the other sorts
  abbrev is_other : Sort → Type 0
  is_other Parameters = ⊥
  is_other MoreParameters = ⊥
  is_other Declarations = ⊥
  is_other AfterVoid = ⊥
  is_other Function = ⊥
  is_other _ = Unit {0}

  other_shown : (S : Sort) → is_other S → (ts : List Lexeme) (v : Value S) → Shown S ts v
  unfolding Shown
  other_shown Parameters h ts v = absurd h
  other_shown MoreParameters h ts v = absurd h
  other_shown Declarations h ts v = absurd h
  other_shown AfterVoid h ts v = absurd h
  other_shown Function h ts v = absurd h
  other_shown _ h ts v = tt

  shown_rule : (S : Sort) (r : Rule S) → Step Shown r
  shown_rule _ Rule.last_parameter ts vs m = last_parameter_shown ts vs m
  shown_rule _ Rule.next_parameter ts vs m = next_parameter_shown ts vs m
  shown_rule _ Rule.void_first ts vs m = void_first_shown ts vs m
  shown_rule _ Rule.filled_first ts vs m = filled_first_shown ts vs m
  shown_rule _ Rule.no_parameter ts vs m = no_parameter_shown ts vs m
  shown_rule _ Rule.void_parameter ts vs m = void_parameter_shown ts vs m
  shown_rule _ Rule.no_declaration ts vs m = no_declaration_shown ts vs m
  shown_rule _ Rule.declaration ts vs m = declaration_shown ts vs m
  shown_rule _ Rule.function ts vs m = function_shown ts vs m
  shown_rule _ _ ts vs m = other_shown _ tt ts _

-- what is printed of a function
pub function_follows : (V : Vocabulary) (f : FnText) (ts : List Lexeme) → Is grammar Function ts f → AreRead V ts → Follows V (spellings ts) (function_words f)
unfolding Shown
function_follows V f ts p a = (shown_of (Shown V) (shown_rule V) p a).0

-- it begins with a type
pub function_begins : (V : Vocabulary) (f : FnText) (ts : List Lexeme) → Is grammar Function ts f → AreRead V ts → Begins (function_words f)
unfolding Shown
function_begins V f ts p a = (shown_of (Shown V) (shown_rule V) p a).1
