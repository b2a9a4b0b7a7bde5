-- A typed function of the form is whole: its temporaries are its own.
use Rattle.std.proofs.Common.{◌≡◌, ℕ, Bool, true, false, ◌&&◌, ◌==◌, nat_lt, List, [], ◌∷◌, length, Some, refl, sym, ◌∙◌, ap, subst}
use Rattle.std.specs.List.{list_all}
use Rattle.vd_clight.specs.declared.program.Program.{Program}
use Rattle.vd_clight.specs.declared.syntax.BinOp.{BinOp}
use Rattle.vd_clight.specs.declared.syntax.BinOp.TheVariants as op
use Rattle.vd_clight.specs.declared.typed.Kind.{Kind}
use Rattle.vd_clight.specs.declared.typed.Kind.TheVariants.{Signed, Unsigned}
use Rattle.vd_clight.specs.declared.typed.Lval.{Lval, fold-Lval}
use Rattle.vd_clight.specs.declared.typed.Part.{Part, fold-Part}
use Rattle.vd_clight.specs.declared.typed.Part.TheOpen as expression
use Rattle.vd_clight.specs.declared.typed.TExpr.{TExpr, TExpr-F, roll-TExpr, map-TExpr, ind-TExpr, fold-roll-TExpr}
use Rattle.vd_clight.specs.declared.typed.TStmt.{TStmt, TStmt-F, out-TStmt, roll-TStmt, roll-out-TStmt, map-TStmt, fold-roll-TStmt}
use Rattle.vd_clight.specs.declared.typed.TStmt.TheOpen as statement
use Rattle.vd_clight.specs.declared.typed.TypedFn.{TypedFn}
use Rattle.vd_clight.specs.Whole.{is_whole, whole_statement, is_whole_statement, whole_part, whole_expression as whole_layer, whole_place, is_whole_expression, is_whole_place}
use Rattle.vd_form.specs.Sections.{IsTyped}
use Rattle.vd_form.specs.Simple.{no_part, no_place, simple_layer, is_simple, is_simple_statement_layer, is_simple_statement, are_simple, is_simple_function}
use Rattle.vd_check.specs.Safety.{program_of}

and_left : (a b : Bool) → (a && b) ≡ true → a ≡ true
and_left true b h = refl
and_left false b h = cc

and_right : (a b : Bool) → (a && b) ≡ true → b ≡ true
and_right true b h = h
and_right false b h = cc

-- ---- expressions

whole_roll : (p : Program) (n : ℕ) (x : TExpr-F Part TExpr Lval)
    → is_whole_expression p n (roll-TExpr x) ≡ whole_layer n (map-TExpr Part TExpr Lval Bool Bool Bool (fold-Part Bool Bool Bool whole_part (whole_layer n) (whole_place p n)) (is_whole_expression p n) (is_whole_place p n) x)
unfolding is_whole_expression is_whole_place
whole_roll p n x = fold-roll-TExpr Bool Bool Bool whole_part (whole_layer n) (whole_place p n) x

simple_roll : (n : ℕ) (x : TExpr-F Part TExpr Lval)
    → is_simple n (roll-TExpr x) ≡ simple_layer n (map-TExpr Part TExpr Lval Bool Bool Bool (fold-Part Bool Bool Bool no_part (simple_layer n) no_place) (is_simple n) (fold-Lval Bool Bool Bool no_part (simple_layer n) no_place) x)
unfolding is_simple
simple_roll n x = fold-roll-TExpr Bool Bool Bool no_part (simple_layer n) no_place x

abbrev IsWhole : Program → ℕ → TExpr → Type 0
IsWhole p n e = is_simple n e ≡ true → is_whole_expression p n e ≡ true

-- an expression with what is known of its parts
abbrev Layer : Program → ℕ → Type 0
Layer p n = TExpr-F ((q : Part) × Unit {0}) ((e : TExpr) × IsWhole p n e) ((l : Lval) × Unit {0})

abbrev plain : (p : Program) (n : ℕ) → Layer p n → TExpr-F Part TExpr Lval
plain p n y = map-TExpr ((q : Part) × Unit {0}) ((e : TExpr) × IsWhole p n e) ((l : Lval) × Unit {0}) Part TExpr Lval (λ q. q.0) (λ e. e.0) (λ l. l.0) y

binary_parts : (n : ℕ) (o : BinOp) (k : Kind) (a b : Bool) → simple_layer n (expression.Binary o k a b) ≡ true → (a && b) ≡ true
binary_parts n op.Add Signed a b h = h
binary_parts n op.Sub Signed a b h = h
binary_parts n op.Add Unsigned a b h = absurd (cc)
binary_parts n op.Sub Unsigned a b h = absurd (cc)
binary_parts n _ _ a b h = absurd (cc)

step : (p : Program) (n : ℕ) (y : Layer p n) → IsWhole p n (roll-TExpr (plain p n y))
step p n (expression.Const k) = λ h. whole_roll p n (expression.Const k)
step p n (expression.Temp x) = λ h. whole_roll p n (expression.Temp x) ∙ (sym (simple_roll n (expression.Temp x)) ∙ h)
step p n (expression.Addr l) = λ h. let e : false ≡ true = sym (simple_roll n (expression.Addr l.0)) ∙ h in absurd (cc)
step p n (expression.Unary o k a) = λ h. let e : false ≡ true = sym (simple_roll n (expression.Unary o k a.0)) ∙ h in absurd (cc)
step p n (expression.Binary o k a b) = λ h.
    let both = binary_parts n o k (is_simple n a.0) (is_simple n b.0) (sym (simple_roll n (expression.Binary o k a.0 b.0)) ∙ h) in
    let x = a.1 (and_left (is_simple n a.0) (is_simple n b.0) both) in
    let y = b.1 (and_right (is_simple n a.0) (is_simple n b.0) both) in
    whole_roll p n (expression.Binary o k a.0 b.0) ∙ rw (x, y) refl

whole_expression : (p : Program) (n : ℕ) (e : TExpr) → IsWhole p n e
whole_expression p n = ind-TExpr (λ q. Unit {0}) (IsWhole p n) (λ l. Unit {0}) (λ x y is. tt) (λ x y is. subst (λ z. IsWhole p n (roll-TExpr z)) is (step p n y)) (λ x y is. tt)

-- ---- statements and functions

statement_roll : (p : Program) (n : ℕ) (x : TStmt-F TStmt) → is_whole_statement p n (roll-TStmt x) ≡ whole_statement p n (map-TStmt TStmt Bool (is_whole_statement p n) x)
unfolding is_whole_statement
statement_roll p n x = fold-roll-TStmt Bool (whole_statement p n) x

set_whole : (p : Program) (n x : ℕ) (e : TExpr) → (nat_lt x n && is_simple n e) ≡ true → (nat_lt x n && is_whole_expression p n e) ≡ true
set_whole p n x e h =
    let a = and_left (nat_lt x n) (is_simple n e) h in
    let b = whole_expression p n e (and_right (nat_lt x n) (is_simple n e) h) in
    rw (a, b) refl

layer_whole : (p : Program) (n : ℕ) (x : TStmt-F TStmt) → is_simple_statement_layer n x ≡ true → whole_statement p n (map-TStmt TStmt Bool (is_whole_statement p n) x) ≡ true
layer_whole p n (statement.Set x e) h = set_whole p n x e h
layer_whole p n (statement.Return (Some e)) h = whole_expression p n e h
layer_whole p n _ h = absurd (cc)

statement_whole : (p : Program) (n : ℕ) (s : TStmt) → is_simple_statement n s ≡ true → is_whole_statement p n s ≡ true
statement_whole p n s h = ap (is_whole_statement p n) (sym (roll-out-TStmt s)) ∙ (statement_roll p n (out-TStmt s) ∙ layer_whole p n (out-TStmt s) h)

body_whole : (p : Program) (n : ℕ) (ss : List TStmt) → are_simple n ss ≡ true → list_all (is_whole_statement p n) ss ≡ true
body_whole p n [] h = refl
body_whole p n (s ∷ ss) h =
    let a = statement_whole p n s (and_left (is_simple_statement n s) (are_simple n ss) h) in
    let b = body_whole p n ss (and_right (is_simple_statement n s) (are_simple n ss) h) in
    rw (a, b) refl

simple_is_whole : (f : TypedFn) → is_simple_function f ≡ true → is_whole (program_of f) ≡ true
simple_is_whole f h =
    let none = and_left (f.params == 0) (are_simple (length f.temps) f.body) h in
    let all = body_whole (program_of f) (length f.temps) f.body (and_right (f.params == 0) (are_simple (length f.temps) f.body) h) in
    rw (none, all) refl

-- the program of a typed function of the form is whole
pub typed_is_whole : (text : List ℕ) (f : TypedFn) → IsTyped text f → is_whole (program_of f) ≡ true
typed_is_whole text f h = simple_is_whole f h.2.simple
