-- What tokens are by the rules, taken apart and put together, and how an expression and a type begin.
use Rattle.std.proofs.Common.{ℕ, ◌≡◌, true, List, [], ◌∷◌, ◌++◌, refl, sym, ◌∙◌, ap, subst}
use Rattle.std.proofs.lemmas.List.{append-nil}
use Rattle.vd_base.specs.declared.ctype.CType.{CType}
use Rattle.vd_base.specs.declared.ctype.CType.TheVariants as typ
use Rattle.vd_clight.specs.declared.syntax.Expr.{Expr}
use Rattle.vd_clight.specs.declared.syntax.ExprNode.TheVariants as e
use Rattle.vd_grammar.specs.Grammar.{Symbol, word, part, Row, Matches, nothing, token_then, part_then, Is, by_rule}
use Rattle.vd_cgrammar.specs.declared.kind.Kind.{Kind}
use Rattle.vd_cgrammar.specs.declared.kind.Kind.TheVariants as k
use Rattle.vd_cgrammar.specs.declared.kind.Class.{Class}
use Rattle.vd_cgrammar.specs.declared.kind.Class.TheVariants as c
use Rattle.vd_cgrammar.specs.declared.parts.Postfix.{Postfix}
use Rattle.vd_cgrammar.specs.Kinds.{has}
use Rattle.vd_cgrammar.specs.Lexeme.{Lexeme}
use Rattle.vd_cgrammar.specs.Syntax.{simple_of, pointers, behind, grouped}
use Rattle.vd_cgrammar.specs.Grammar.{Sort, Value, Rule, grammar, symbols, make, Expression, Operations, Unary, Plain, Postfixes, Type_, Stars}
use Rattle.vd_cgrammar.specs.Derivations.{Parts, ByRules, all_are}

-- the syntax of a right side
abbrev pub Values : List (Symbol Class Sort) → Type 0
Values ss = Row Class Sort Lexeme Value ss

-- the parts of a rule are what their sorts say
abbrev pub Derived : (S : Sort) → List Lexeme → Value S → Type 0
Derived S ts v = Is grammar S ts v

matched : (ss : List (Symbol Class Sort)) (ts : List Lexeme) (vs : Values ss) → Parts grammar Derived ss ts vs → Matches grammar ss ts vs
matched [] ts vs h = subst (λ z. Matches grammar [] z vs) (sym h) nothing
matched (word c ∷ ss) ts (t, vs) (us, cut, h, m) = subst (λ z. Matches grammar (word c ∷ ss) z (t, vs)) (sym cut) (token_then h (matched ss us vs m))
matched (part S ∷ ss) ts (v, vs) (xs, ys, cut, x, m) = part_then cut x (matched ss ys vs m)

-- a rule, given its parts
pub put_together : {S : Sort} (r : Rule S) (ts : List Lexeme) (vs : Values (symbols r)) → Parts grammar Derived (symbols r) ts vs → Is grammar S ts (make r vs)
put_together r ts vs m = by_rule r refl (matched (symbols r) ts vs m)

module _ (Shown : (S : Sort) → List Lexeme → Value S → Type 0) where
  -- what is shown, beside what the tokens are
  abbrev pub Both : (S : Sort) → List Lexeme → Value S → Type 0
  Both S ts v = Is grammar S ts v × Shown S ts v

  -- what a rule hands on, given what its parts are
  abbrev pub Step : {S : Sort} → Rule S → Type 0
  Step {S} r = (ts : List Lexeme) (vs : Values (symbols r)) → Parts grammar Both (symbols r) ts vs → Shown S ts (make r vs)

  parts_alone : (ss : List (Symbol Class Sort)) (ts : List Lexeme) (vs : Values ss) → Parts grammar Both ss ts vs → Parts grammar Derived ss ts vs
  parts_alone [] ts vs h = h
  parts_alone (word c ∷ ss) ts (t, vs) (us, cut, h, m) = (us, cut, h, parts_alone ss us vs m)
  parts_alone (part S ∷ ss) ts (v, vs) (xs, ys, cut, x, m) = (xs, ys, cut, x.0, parts_alone ss ys vs m)

  module _ (steps : (S : Sort) (r : Rule S) → Step r) where
    both_by_rules : ByRules grammar Both
    both_by_rules S r ts vs m = (put_together r ts vs (parts_alone (symbols r) ts vs m), steps S r ts vs m)

    -- what all rules hand on holds
    pub shown_of : {S : Sort} {ts : List Lexeme} {v : Value S} → Is grammar S ts v → Shown S ts v
    shown_of x = (all_are grammar Both both_by_rules x).1

-- ---- how an expression begins

-- an operand is a name with what stands behind it, or another
pub data Operand (ts : List Lexeme) (x : Expr) : Type 0 where
  begins_named : (t : Lexeme) (xs : List Lexeme) (ps : List Postfix) → has c.AnyName t.kind ≡ true → Is grammar Postfixes xs ps → ts ≡ t ∷ xs → x ≡ behind t.place (e.Ident t.spelling) ps
      → Operand ts x
  begins_other : Is grammar Plain ts x → Operand ts x

-- an operand, and the operators behind it
pub record Started (ts : List Lexeme) (x : Expr) : Type 0 where
  pub first : Expr
  pub others : List (Kind × Expr)
  pub front : List Lexeme
  pub back : List Lexeme
  pub cut : ts ≡ front ++ back
  pub operand : Operand front first
  pub operators : Is grammar Operations back others
  pub value : x ≡ grouped first others

-- ---- how a type begins

-- a word with stars behind it, or a struct
pub data TypeStart (ts : List Lexeme) (t : CType) : Type 0 where
  simple : (w : Lexeme) (xs : List Lexeme) (n : ℕ) → has c.SimpleType w.kind ≡ true → Is grammar Stars xs n → ts ≡ w ∷ xs → t ≡ pointers n (simple_of w.kind) → TypeStart ts t
  struct : (w x : Lexeme) (xs : List Lexeme) (n : ℕ) → has (c.One k.Struct) w.kind ≡ true → has c.AnyName x.kind ≡ true → Is grammar Stars xs n → ts ≡ w ∷ x ∷ xs
      → t ≡ pointers n (typ.Struct x.spelling) → TypeStart ts t

-- ---- every derivation begins so

Begun : (S : Sort) → List Lexeme → Value S → Type 0
Begun Expression ts x = Started ts x
Begun Unary ts x = Operand ts x
Begun Type_ ts t = TypeStart ts t
Begun _ ts v = Unit {0}

pub append_nothing : {ts xs ys : List Lexeme} → ts ≡ xs ++ ys → ys ≡ [] → ts ≡ xs
append_nothing {ts} {xs} {ys} g e = g ∙ (ap (λ z. xs ++ z) e ∙ append-nil xs)

name_begun : Step Begun Rule.name
unfolding Begun
name_begun ts (t, (ps, _)) (us, cut, h, (xs, ys, cut2, p, e)) = begins_named t us ps h (subst (λ z. Is grammar Postfixes z ps) (sym (append_nothing cut2 e)) p.0) cut refl

operand_begun : Step Begun Rule.other_operand
unfolding Begun
operand_begun ts (x, _) (xs, ys, cut, p, e) = begins_other (subst (λ z. Is grammar Plain z x) (sym (append_nothing cut e)) p.0)

expression_begun : Step Begun Rule.expression
unfolding Begun
expression_begun ts (x, (os, _)) (xs, ys, cut, p, (zs, ws, cut2, q, e)) = record {
  first = x;
  others = os;
  front = xs;
  back = zs;
  cut = cut ∙ ap (λ z. xs ++ z) (append_nothing cut2 e);
  operand = p.1;
  operators = q.0;
  value = refl;
}

simple_begun : Step Begun Rule.simple_type
unfolding Begun
simple_begun ts (t, (n, _)) (us, cut, h, (xs, ys, cut2, p, e)) = simple t us n h (subst (λ z. Is grammar Stars z n) (sym (append_nothing cut2 e)) p.0) cut refl

struct_begun : Step Begun Rule.struct_type
unfolding Begun
struct_begun ts (t, (x, (n, _))) (us, cut, h, (vs, cut2, g, (xs, ys, cut3, p, e))) =
    struct t x vs n h g (subst (λ z. Is grammar Stars z n) (sym (append_nothing cut3 e)) p.0) (cut ∙ ap (λ z. t ∷ z) cut2) refl

-- nothing is said of the other sorts
abbrev is_other : Sort → Type 0
is_other Expression = ⊥
is_other Unary = ⊥
is_other Type_ = ⊥
is_other _ = Unit {0}

other_begun : (S : Sort) → is_other S → (ts : List Lexeme) (v : Value S) → Begun S ts v
unfolding Begun
other_begun Expression h ts v = absurd h
other_begun Unary h ts v = absurd h
other_begun Type_ h ts v = absurd h
other_begun _ h ts v = tt

begun : (S : Sort) (r : Rule S) → Step Begun r
begun _ Rule.expression ts vs m = expression_begun ts vs m
begun _ Rule.name ts vs m = name_begun ts vs m
begun _ Rule.other_operand ts vs m = operand_begun ts vs m
begun _ Rule.simple_type ts vs m = simple_begun ts vs m
begun _ Rule.struct_type ts vs m = struct_begun ts vs m
begun _ _ ts vs m = other_begun _ tt ts _

pub started : {ts : List Lexeme} {x : Expr} → Is grammar Expression ts x → Started ts x
unfolding Begun
started x = shown_of Begun begun x

pub type_started : {ts : List Lexeme} {t : CType} → Is grammar Type_ ts t → TypeStart ts t
unfolding Begun
type_started x = shown_of Begun begun x
