-- The tokens that are printed of a function that is read are read as it, places apart.
use Rattle.std.proofs.Common.{ℕ, ◌≡◌, Bool, true, false, List, [], ◌∷◌, ◌++◌, map, flat_map, codes, refl, sym, ◌∙◌, ap, subst, append_assoc}
use Rattle.std.proofs.lemmas.List.{append-nil}
use Rattle.std.proofs.lemmas.List.Folds.{flat_map-map}
use Rattle.vd_base.specs.declared.ctype.CType.{CType}
use Rattle.vd_base.specs.declared.ctype.CType.TheVariants as typ
use Rattle.vd_base.specs.declared.ctype.Field.{Field}
use Rattle.vd_clight.specs.declared.syntax.FnText.{FnText}
use Rattle.vd_clight.specs.declared.syntax.Stmt.{Stmt}
use Rattle.vd_clight.specs.Printed.{Words, one, type_words, field_words, parameter_words, declaration_words, statement_words, function_words}
use Rattle.vd_grammar.specs.Grammar.{Is}
use Rattle.vd_cgrammar.specs.declared.kind.Kind.{Kind}
use Rattle.vd_cgrammar.specs.declared.kind.Kind.TheVariants as k
use Rattle.vd_cgrammar.specs.declared.kind.Class.TheVariants as c
use Rattle.vd_cgrammar.specs.Kinds.{has}
use Rattle.vd_cgrammar.specs.Lexeme.{Lexeme}
use Rattle.vd_cgrammar.specs.Syntax.{simple_of, pointers, field_of}
use Rattle.vd_cgrammar.specs.Grammar.{Sort, Value, Rule, grammar, Function, Parameters, AfterVoid, MoreParameters, Declarations, Type_, Filled, VoidType}
use Rattle.vd_cgrammar.specs.Precedence.{Vocabulary}
use Rattle.vd_cgrammar.specs.Standing.{IsToken, AreTokens, AreRead, FunctionReadsAs, FunctionsReadBack}
use Rattle.vd_cgrammar.specs.Unplaced.{unplaced_statement, unplaced_function}
use Rattle.vd_cgrammar.proofs.Again.{sign, same_kind, again, first_read, both_read, typed}
use Rattle.vd_cgrammar.proofs.ReadingBack.{of_kind, split, first, nothing_left}
use Rattle.vd_cgrammar.proofs.Spelled.{only}
use Rattle.vd_cgrammar.proofs.Starts.{put_together, append_nothing, TypeStart, simple, struct, type_started, Step, shown_of}
use Rattle.vd_cgrammar.proofs.StatementsBack.{body_back}

-- the tokens that are printed of what a sort says
abbrev pub printed_of : (S : Sort) → Value S → Words
printed_of Parameters ps = parameter_words ps ++ one (codes ")")
printed_of MoreParameters ps = flat_map (λ y. codes "," ∷ y) (map field_words ps) ++ one (codes ")")
printed_of Declarations ds = flat_map declaration_words ds
printed_of _ v = []

pub field_cut : (ws : Words) (name : List ℕ) (xs ys : Words) → ((ws ++ one name) ++ xs) ++ ys ≡ ws ++ name ∷ (xs ++ ys)
field_cut ws name xs ys = append_assoc (ws ++ one name) xs ys ∙ append_assoc ws (one name) (xs ++ ys)

pub function_cut : (ret : Words) (name : List ℕ) (ps ds ss end : Words) → (((ret ++ name ∷ codes "(" ∷ ps) ++ codes ")" ∷ codes "{" ∷ ds) ++ ss) ++ end
    ≡ ret ++ name ∷ codes "(" ∷ ((ps ++ one (codes ")")) ++ codes "{" ∷ (ds ++ (ss ++ end)))
function_cut ret name ps ds ss end =
    let front = name ∷ codes "(" ∷ ps in
    let back = codes ")" ∷ codes "{" ∷ ds in
    append_assoc ((ret ++ front) ++ back) ss end
    ∙ (append_assoc (ret ++ front) back (ss ++ end)
    ∙ (append_assoc ret front (back ++ (ss ++ end)) ∙ ap (λ z. ret ++ name ∷ codes "(" ∷ z) (sym (append_assoc ps (one (codes ")")) (codes "{" ∷ (ds ++ (ss ++ end)))))))

abbrev made : CType → List Field → List Field → List ℕ → List Stmt → FnText
made ret params temps name body = record { ret = ret; name = name; params = params; temps = temps; body = body }

same_function : (ret : CType) (params temps : List Field) (f g : List ℕ) (a b : List Stmt) → f ≡ g → map unplaced_statement a ≡ map unplaced_statement b
    → unplaced_function (made ret params temps f a) ≡ unplaced_function (made ret params temps g b)
same_function ret params temps f g a b h i = ap (λ z. made ret params temps z (map unplaced_statement a)) h ∙ ap (λ z. made ret params temps g z) i

-- ---- kinds

simple_filled : (kind : Kind) → has c.FilledType kind ≡ true → has c.SimpleType kind ≡ true
simple_filled k.Int h = refl
simple_filled k.Unsigned h = refl
simple_filled k.Lock h = refl
simple_filled _ h = cc

void_kind : (kind : Kind) → has c.SimpleType kind ≡ true → has c.FilledType kind ≡ false → kind ≡ k.Void
void_kind k.Void h g = refl
void_kind k.Int h g = cc
void_kind k.Unsigned h g = cc
void_kind k.Lock h g = cc
void_kind _ h g = cc

-- ---- parameters that begin with a type

-- a type, a name and what follows are parameters
parameters_are : {us xs zs : List Lexeme} {t : CType} {ps : List Field} (u : Lexeme) → TypeStart xs t → us ≡ xs ++ u ∷ zs → has c.AnyName u.kind ≡ true → Is grammar MoreParameters zs ps
    → Is grammar Parameters us (field_of u.spelling t ∷ ps)
parameters_are {us} {xs} {zs} {t} {ps} u (struct w x ys n hw hx p front made) cut h r =
    subst (λ z. Is grammar Parameters us (field_of u.spelling z ∷ ps)) (sym made)
    (put_together Rule.filled_first us (pointers n (typ.Struct x.spelling), (u, (ps, tt))) (
      w ∷ x ∷ ys,
      u ∷ zs,
      cut ∙ ap (λ z. z ++ u ∷ zs) front,
      put_together Rule.filled_struct (w ∷ x ∷ ys) (w, (x, (n, tt))) (x ∷ ys, refl, hw, (ys, refl, hx, (ys, [], sym (append-nil ys), p, refl))),
      (zs, refl, h, (zs, [], sym (append-nil zs), r, refl)),
    ))
parameters_are {us} {xs} {zs} {t} {ps} u (simple w ys n hw p front made) cut h r = by_kind (has c.FilledType w.kind) refl
  where
    whole : us ≡ w ∷ (ys ++ u ∷ zs)
    whole = cut ∙ ap (λ z. z ++ u ∷ zs) front

    filled : has c.FilledType w.kind ≡ true → Is grammar Parameters us (field_of u.spelling t ∷ ps)
    filled g =
        subst (λ z. Is grammar Parameters us (field_of u.spelling z ∷ ps)) (sym made)
        (put_together Rule.filled_first us (pointers n (simple_of w.kind), (u, (ps, tt)))
        (w ∷ ys, u ∷ zs, whole, put_together Rule.filled_type (w ∷ ys) (w, (n, tt)) (ys, refl, g, (ys, [], sym (append-nil ys), p, refl)), (zs, refl, h, (zs, [], sym (append-nil zs), r, refl))))

    void : w.kind ≡ k.Void → Is grammar Parameters us (field_of u.spelling t ∷ ps)
    void g =
        let behind = put_together Rule.void_parameter (ys ++ u ∷ zs) (pointers n typ.Void, (u, (ps, tt)))
        (ys, u ∷ zs, refl, put_together Rule.void_type ys (n, tt) (ys, [], sym (append-nil ys), p, refl), (zs, refl, h, (zs, [], sym (append-nil zs), r, refl))) in
        subst (λ z. Is grammar Parameters us (field_of u.spelling z ∷ ps)) (sym (made ∙ ap (λ q. pointers n (simple_of q)) g))
        (put_together Rule.void_first us (w, (field_of u.spelling (pointers n typ.Void) ∷ ps, tt))
        (ys ++ u ∷ zs, whole, of_kind w k.Void g, (ys ++ u ∷ zs, [], sym (append-nil (ys ++ u ∷ zs)), behind, refl)))

    by_kind : (b : Bool) → has c.FilledType w.kind ≡ b → Is grammar Parameters us (field_of u.spelling t ∷ ps)
    by_kind true g = filled g
    by_kind false g = void (void_kind w.kind hw g)

module _ (V : Vocabulary) where
  -- whatever stands for the tokens that are printed is read as the value
  abbrev PrintsBack : (S : Sort) → Value S → Type 0
  PrintsBack S v = (us : List Lexeme) → AreTokens V us (printed_of S v) → Is grammar S us v

  -- what is shown of each sort
  Shown : (S : Sort) → List Lexeme → Value S → Type 0
  Shown Parameters ts ps = AreRead V ts → PrintsBack Parameters ps
  Shown MoreParameters ts ps = AreRead V ts → PrintsBack MoreParameters ps
  Shown Declarations ts ds = AreRead V ts → PrintsBack Declarations ds
  Shown AfterVoid ts ps = (w : Lexeme) → has (c.One k.Void) w.kind ≡ true → AreRead V (w ∷ ts) → PrintsBack Parameters ps
  Shown Filled ts t = Is grammar Type_ ts t
  Shown VoidType ts t = (w : Lexeme) → has (c.One k.Void) w.kind ≡ true → Is grammar Type_ (w ∷ ts) t
  Shown Function ts f = AreRead V ts → (us : List Lexeme) → AreTokens V us (function_words f) → FunctionReadsAs f us
  Shown _ ts v = Unit {0}

  -- ---- types

  filled_type_shown : Step Shown Rule.filled_type
  unfolding Shown
  filled_type_shown ts (w, (n, _)) (us, cut, h, (xs, ys, cut2, p, m)) = put_together Rule.simple_type ts (w, (n, tt)) (us, cut, simple_filled w.kind h, (xs, ys, cut2, p.0, m))

  filled_struct_shown : Step Shown Rule.filled_struct
  unfolding Shown
  filled_struct_shown ts (w, (x, (n, _))) (us, cut, h, (vs, cut2, g, (xs, ys, cut3, p, m))) =
      put_together Rule.struct_type ts (w, (x, (n, tt))) (us, cut, h, (vs, cut2, g, (xs, ys, cut3, p.0, m)))

  void_type_shown : Step Shown Rule.void_type
  unfolding Shown
  void_type_shown ts (n, _) (xs, ys, cut, p, m) w h =
      let kind = only V w.kind k.Void h in
      subst (λ z. Is grammar Type_ (w ∷ ts) (pointers n (simple_of z))) kind
      (put_together Rule.simple_type (w ∷ ts) (w, (n, tt)) (ts, refl, ap (has c.SimpleType) kind, (xs, ys, cut, p.0, m)))

  -- ---- parameters

  parameters_back : {xs : List Lexeme} (t : CType) (x : Lexeme) (ps : List Field) → Is grammar Type_ xs t → AreRead V xs → IsToken V x x.spelling → has c.AnyName x.kind ≡ true
      → PrintsBack MoreParameters ps → PrintsBack Parameters (field_of x.spelling t ∷ ps)
  parameters_back t x ps p a j h q us b =
      let more = flat_map (λ y. codes "," ∷ y) (map field_words ps) in
      let d = split V (type_words t) (x.spelling ∷ more ++ one (codes ")")) (subst (AreTokens V us) (field_cut (type_words t) x.spelling more (one (codes ")"))) b) in
      let u = first V d.right in
      subst (λ z. Is grammar Parameters us (field_of z t ∷ ps)) u.is.spelling_is
      (parameters_are u.token (type_started (typed V p a d.left)) (d.cut ∙ ap (λ z. d.front ++ z) u.cut) (ap (has c.AnyName) (same_kind V j u.is) ∙ h) (q u.rest u.others))

  last_parameter_shown : Step Shown Rule.last_parameter
  unfolding Shown
  last_parameter_shown ts vs m a us b = let f = first V b in put_together Rule.last_parameter us (f.token, tt) (f.rest, f.cut, sign V k.RightParen refl f.is, nothing_left V f.others)

  next_parameter_shown : Step Shown Rule.next_parameter
  unfolding Shown
  next_parameter_shown ts (comma, (t, (x, (ps, _)))) (us1, cut, h, (xs, ys, cut2, p, (us2, cut3, n, (zs, ws, cut4, q, m)))) a us b =
      let a1 = first_read V cut a in
      let a2 = both_read V cut2 a1.1 in
      let a3 = first_read V cut3 a2.1 in
      let a4 = both_read V cut4 a3.1 in
      let more = flat_map (λ y. codes "," ∷ y) (map field_words ps) in
      let f = first V b in
      let d = split V (type_words t) (x.spelling ∷ more ++ one (codes ")")) (subst (AreTokens V f.rest) (field_cut (type_words t) x.spelling more (one (codes ")"))) f.others) in
      let u = first V d.right in
      subst (λ z. Is grammar MoreParameters us (field_of z t ∷ ps)) u.is.spelling_is
      (put_together Rule.next_parameter us (f.token, (t, (u.token, (ps, tt)))) (
        f.rest,
        f.cut,
        sign V k.Comma refl f.is,
        (
          d.front,
          d.back,
          d.cut,
          typed V p.0 a2.0 d.left,
          (u.rest, u.cut, ap (has c.AnyName) (same_kind V a3.0 u.is) ∙ n, (u.rest, [], sym (append-nil u.rest), q.1 a4.0 u.rest u.others, refl)),
        ),
      ))

  void_first_shown : Step Shown Rule.void_first
  unfolding Shown
  void_first_shown ts (w, (ps, _)) (us, cut, h, (xs, ys, cut2, p, m)) a = p.1 w h (subst (AreRead V) (cut ∙ ap (λ z. w ∷ z) (append_nothing cut2 m)) a)

  filled_first_shown : Step Shown Rule.filled_first
  unfolding Shown
  filled_first_shown ts (t, (x, (ps, _))) (xs, ys, cut, p, (us1, cut2, n, (zs, ws, cut3, q, m))) a =
      let a1 = both_read V cut a in
      let a2 = first_read V cut2 a1.1 in
      let a3 = both_read V cut3 a2.1 in
      parameters_back t x ps p.1 a1.0 a2.0 n (q.1 a3.0)

  no_parameter_shown : Step Shown Rule.no_parameter
  unfolding Shown
  no_parameter_shown ts vs m w h a us b =
      let f = first V b in
      let l = first V f.others in
      put_together Rule.void_first us (f.token, ([], tt)) (
        f.rest,
        f.cut,
        sign V k.Void refl f.is,
        (
          f.rest,
          [],
          sym (append-nil f.rest),
          put_together Rule.no_parameter f.rest (l.token, tt) (l.rest, l.cut, sign V k.RightParen refl l.is, nothing_left V l.others),
          refl,
        ),
      )

  void_parameter_shown : Step Shown Rule.void_parameter
  unfolding Shown
  void_parameter_shown ts (t, (x, (ps, _))) (xs, ys, cut, p, (us1, cut2, n, (zs, ws, cut3, q, m))) w h a =
      let a1 = both_read V {xs = w ∷ xs} {ys = ys} (ap (λ z. w ∷ z) cut) a in
      let a2 = first_read V cut2 a1.1 in
      let a3 = both_read V cut3 a2.1 in
      parameters_back t x ps (p.1 w h) a1.0 a2.0 n (q.1 a3.0)

  -- ---- temporaries

  no_declaration_shown : Step Shown Rule.no_declaration
  unfolding Shown
  no_declaration_shown ts vs m a us b = put_together Rule.no_declaration us tt (nothing_left V b)

  declaration_shown : Step Shown Rule.declaration
  unfolding Shown
  declaration_shown ts (t, (x, (semicolon, (ds, _)))) (xs, ys, cut, p, (us1, cut2, n, (us2, cut3, h, (zs, ws, cut4, q, m)))) a us b =
      let a1 = both_read V cut a in
      let a2 = first_read V cut2 a1.1 in
      let a3 = first_read V cut3 a2.1 in
      let a4 = both_read V cut4 a3.1 in
      let more = flat_map declaration_words ds in
      let d = split V (type_words t) (x.spelling ∷ codes ";" ∷ more) (subst (AreTokens V us) (field_cut (type_words t) x.spelling (one (codes ";")) more) b) in
      let u = first V d.right in
      let l = first V u.others in
      subst (λ z. Is grammar Declarations us (field_of z t ∷ ds)) u.is.spelling_is
      (put_together Rule.declaration us (t, (u.token, (l.token, (ds, tt)))) (
        d.front,
        d.back,
        d.cut,
        typed V p.0 a1.0 d.left,
        (
          u.rest,
          u.cut,
          ap (has c.AnyName) (same_kind V a2.0 u.is) ∙ n,
          (l.rest, l.cut, sign V k.Semicolon refl l.is, (l.rest, [], sym (append-nil l.rest), q.1 a4.0 l.rest l.others, refl)),
        ),
      ))

  -- ---- functions

  function_shown : Step Shown Rule.function
  unfolding Shown
  function_shown ts (t, (f, (opening, (ps, (brace, (ds, (ss, _))))))) (xs, ys, cut, p, (us1, cut2, n, (us2, cut3, h, (zs, ws, cut4, q, (us3, cut5, g, (vs, ms, cut6, r, (qs, ns, cut7, x, m))))))) a us b =
      let a1 = both_read V cut a in
      let a2 = first_read V cut2 a1.1 in
      let a3 = first_read V cut3 a2.1 in
      let a4 = both_read V cut4 a3.1 in
      let a5 = first_read V cut5 a4.1 in
      let a6 = both_read V cut6 a5.1 in
      let a7 = both_read V cut7 a6.1 in
      let params = parameter_words ps in
      let temps = flat_map declaration_words ds in
      let body = flat_map statement_words ss in
      let end = one (codes "}") in
      let d = split V (type_words t) (f.spelling ∷ codes "(" ∷ ((params ++ one (codes ")")) ++ codes "{" ∷ (temps ++ (body ++ end))))
      (subst (AreTokens V us) (function_cut (type_words t) f.spelling params temps body end) b) in
      let u = first V d.right in
      let o = first V u.others in
      let y = split V (params ++ one (codes ")")) (codes "{" ∷ (temps ++ (body ++ end))) o.others in
      let l = first V y.right in
      let z = split V temps (body ++ end) l.others in
      let w = body_back V false ss qs x.0 a7.0 z.back (subst (AreTokens V z.back) (ap (λ v. v ++ end) (sym (flat_map-map (λ v. v) statement_words ss))) z.right) in
      record {
        value = record { ret = t; name = u.token.spelling; params = ps; temps = ds; body = w.value };
        is = put_together Rule.function us (t, (u.token, (o.token, (ps, (l.token, (ds, (w.value, tt))))))) (
          d.front,
          d.back,
          d.cut,
          typed V p.0 a1.0 d.left,
          (
            u.rest,
            u.cut,
            again V k.Own a2.0 u.is n,
            (
              o.rest,
              o.cut,
              sign V k.LeftParen refl o.is,
              (
                y.front,
                y.back,
                y.cut,
                q.1 a4.0 y.front y.left,
                (
                  l.rest,
                  l.cut,
                  sign V k.LeftBrace refl l.is,
                  (z.front, z.back, z.cut, r.1 a6.0 z.front z.left, (z.back, [], sym (append-nil z.back), w.is, refl)),
                ),
              ),
            ),
          ),
        );
        same = same_function t ps ds u.token.spelling f.spelling w.value ss u.is.spelling_is w.same;
      }

  -- ---- every rule

  -- nothing is said of the other sorts
  abbrev is_other : Sort → Type 0
  is_other Parameters = ⊥
  is_other MoreParameters = ⊥
  is_other Declarations = ⊥
  is_other AfterVoid = ⊥
  is_other Filled = ⊥
  is_other VoidType = ⊥
  is_other Function = ⊥
  is_other _ = Unit {0}

  other_shown : (S : Sort) → is_other S → (ts : List Lexeme) (v : Value S) → Shown S ts v
  unfolding Shown
  other_shown Parameters h ts v = absurd h
  other_shown MoreParameters h ts v = absurd h
  other_shown Declarations h ts v = absurd h
  other_shown AfterVoid h ts v = absurd h
  other_shown Filled h ts v = absurd h
  other_shown VoidType h ts v = absurd h
  other_shown Function h ts v = absurd h
  other_shown _ h ts v = tt

  shown_rule : (S : Sort) (r : Rule S) → Step Shown r
  shown_rule _ Rule.filled_type ts vs m = filled_type_shown ts vs m
  shown_rule _ Rule.filled_struct ts vs m = filled_struct_shown ts vs m
  shown_rule _ Rule.void_type ts vs m = void_type_shown ts vs m
  shown_rule _ Rule.last_parameter ts vs m = last_parameter_shown ts vs m
  shown_rule _ Rule.next_parameter ts vs m = next_parameter_shown ts vs m
  shown_rule _ Rule.void_first ts vs m = void_first_shown ts vs m
  shown_rule _ Rule.filled_first ts vs m = filled_first_shown ts vs m
  shown_rule _ Rule.no_parameter ts vs m = no_parameter_shown ts vs m
  shown_rule _ Rule.void_parameter ts vs m = void_parameter_shown ts vs m
  shown_rule _ Rule.no_declaration ts vs m = no_declaration_shown ts vs m
  shown_rule _ Rule.declaration ts vs m = declaration_shown ts vs m
  shown_rule _ Rule.function ts vs m = function_shown ts vs m
  shown_rule _ _ ts vs m = other_shown _ tt ts _

pub functions_read_back : FunctionsReadBack
unfolding Shown
functions_read_back V f ts us p a b = shown_of (Shown V) (shown_rule V) p a us b

-- ---- types of parameters

-- a type that does not begin with `void` is a type
pub filled_is_type : (V : Vocabulary) {ts : List Lexeme} {t : CType} → Is grammar Filled ts t → Is grammar Type_ ts t
unfolding Shown
filled_is_type V p = shown_of (Shown V) (shown_rule V) p

-- so is what stands behind `void`, with that word
pub void_is_type : (V : Vocabulary) {ts : List Lexeme} {t : CType} → Is grammar VoidType ts t → (w : Lexeme) → has (c.One k.Void) w.kind ≡ true → Is grammar Type_ (w ∷ ts) t
unfolding Shown
void_is_type V p w h = shown_of (Shown V) (shown_rule V) p w h
