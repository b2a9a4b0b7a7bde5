-- Tokens that are printed of what is read: one by one, and those of an expression and a type.
use Rattle.std.proofs.Common.{◌≡◌, Bool, true, List, [], ◌∷◌, ◌++◌, refl, sym, ◌∙◌, ap, subst, append_assoc}
use Rattle.std.proofs.lemmas.List.{append-nil}
use Rattle.vd_base.specs.declared.ctype.CType.{CType}
use Rattle.vd_clight.specs.declared.syntax.Expr.{Expr}
use Rattle.vd_clight.specs.Printed.{type_words, expression_words}
use Rattle.vd_grammar.specs.Grammar.{Is}
use Rattle.vd_cgrammar.specs.declared.kind.Kind.{Kind}
use Rattle.vd_cgrammar.specs.declared.kind.Kind.TheVariants as k
use Rattle.vd_cgrammar.specs.declared.kind.Class.TheVariants as c
use Rattle.vd_cgrammar.specs.declared.parts.Source.{Source}
use Rattle.vd_cgrammar.specs.declared.parts.Source.TheVariants as source
use Rattle.vd_cgrammar.specs.declared.parts.Tail.TheVariants as tail
use Rattle.vd_cgrammar.specs.declared.parts.Named.TheVariants as named
use Rattle.vd_cgrammar.specs.Kinds.{has}
use Rattle.vd_cgrammar.specs.Lexeme.{Lexeme}
use Rattle.vd_cgrammar.specs.Syntax.{grouped, assigned}
use Rattle.vd_cgrammar.specs.Grammar.{Rule, grammar, Expression, Type_, Right, Statement}
use Rattle.vd_cgrammar.specs.Precedence.{Vocabulary, text_of, has_text}
use Rattle.vd_cgrammar.specs.Standing.{IsToken, AreTokens, next, AreRead}
use Rattle.vd_cgrammar.specs.Unplaced.{unplaced}
use Rattle.vd_cgrammar.proofs.PrintedSpells.{printed_type}
use Rattle.vd_cgrammar.proofs.ReadingBack.{of_kind, type_read, whole_type}
use Rattle.vd_cgrammar.proofs.SameNodes.{same_unplaced}
use Rattle.vd_cgrammar.proofs.Spelled.{parts_read, type_is_spelled, expressions_read_back}
use Rattle.vd_cgrammar.proofs.Starts.{put_together, Operand, begins_named, begins_other, Started}

module _ (V : Vocabulary) where
  -- a token that stands for the text of a kind is of it
  pub sign : (kind : Kind) → has_text (text_of kind) ≡ true → {t : Lexeme} → IsToken V t (text_of kind) → has (c.One kind) t.kind ≡ true
  sign kind h {t} i = of_kind t kind (i.kind_is ∙ V.text_is kind h)

  -- a token that stands for the bytes of one that is read is of its kind
  pub same_kind : {t u : Lexeme} → IsToken V t t.spelling → IsToken V u t.spelling → u.kind ≡ t.kind
  same_kind i j = j.kind_is ∙ sym i.kind_is

  -- the same of a kind that has no text of its own
  pub again : (kind : Kind) {t u : Lexeme} → IsToken V t t.spelling → IsToken V u t.spelling → has (c.One kind) t.kind ≡ true → has (c.One kind) u.kind ≡ true
  again kind i j h = ap (has (c.One kind)) (same_kind i j) ∙ h

  one_read : (t : Lexeme) (ts : List Lexeme) → AreRead V (t ∷ ts) → IsToken V t t.spelling × AreRead V ts
  one_read t ts (next i a) = (i, a)

  -- the first token that is read, and the others
  pub first_read : {t : Lexeme} {ts us : List Lexeme} → ts ≡ t ∷ us → AreRead V ts → IsToken V t t.spelling × AreRead V us
  first_read {t} {ts} {us} cut a = one_read t us (subst (AreRead V) cut a)

  -- both parts of tokens that are read
  pub both_read : {ts xs ys : List Lexeme} → ts ≡ xs ++ ys → AreRead V ts → AreRead V xs × AreRead V ys
  both_read {ts} {xs} {ys} cut a = parts_read V xs ys (subst (AreRead V) cut a)

  -- an expression again
  pub record Expressed (x : Expr) (us : List Lexeme) : Type 0 where
    pub value : Expr
    pub is : Is grammar Expression us value
    pub same : unplaced value ≡ unplaced x

  pub expressed : {ts : List Lexeme} {x : Expr} → Is grammar Expression ts x → AreRead V ts → {us : List Lexeme} → AreTokens V us (expression_words x) → Expressed x us
  expressed {ts} {x} p a {us} b = let r = expressions_read_back V x ts us p a b in record { value = r.value; is = r.is; same = same_unplaced r.value x r.same }

  -- a type again
  pub typed : {ts : List Lexeme} {t : CType} → Is grammar Type_ ts t → AreRead V ts → {us : List Lexeme} → AreTokens V us (type_words t) → Is grammar Type_ us t
  typed {ts} {t} p a b = whole_type V (type_read V (printed_type V (type_is_spelled V t ts p a)) b)

-- ---- what an expression begins

-- an expression and a semicolon are what is assigned
pub source_is : {us xs : List Lexeme} {x : Expr} (semicolon : Lexeme) → Started xs x → us ≡ xs ++ semicolon ∷ [] → has (c.One k.Semicolon) semicolon.kind ≡ true → Is grammar Right us (source.Value x)
source_is {us} {xs} {x} semicolon st cut h = by_operand st.operand
  where
    whole : us ≡ st.front ++ (st.back ++ semicolon ∷ [])
    whole = cut ∙ (ap (λ z. z ++ semicolon ∷ []) st.cut ∙ append_assoc st.front st.back (semicolon ∷ []))

    by_operand : Operand st.front st.first → Is grammar Right us (source.Value x)
    by_operand (begins_named t ys ps g p front made) =
        let inner = put_together Rule.operated_source (ys ++ (st.back ++ semicolon ∷ [])) (ps, (st.others, (semicolon, tt))) (ys, st.back ++ semicolon ∷ [], refl, p, (st.back, semicolon ∷ [], refl, st.operators, ([], refl, h, refl))) in
        subst (λ z. Is grammar Right us (source.Value z)) (sym (st.value ∙ ap (λ z. grouped z st.others) made))
        (put_together Rule.named_source us (t, (tail.Operated ps st.others, tt))
        (ys ++ (st.back ++ semicolon ∷ []), whole ∙ ap (λ z. z ++ (st.back ++ semicolon ∷ [])) front, g, (ys ++ (st.back ++ semicolon ∷ []), [], sym (append-nil (ys ++ (st.back ++ semicolon ∷ []))), inner, refl)))
    by_operand (begins_other p) =
        subst (λ z. Is grammar Right us (source.Value z)) (sym st.value)
        (put_together Rule.other_source us (st.first, (st.others, (semicolon, tt))) (st.front, st.back ++ semicolon ∷ [], whole, p, (st.back, semicolon ∷ [], refl, st.operators, ([], refl, h, refl))))

-- an expression, `=` and what is assigned are a statement
pub assigned_is : (inside : Bool) {us xs zs : List Lexeme} {x : Expr} {r : Source} (equals : Lexeme) → Started xs x → us ≡ xs ++ equals ∷ zs → has (c.One k.Assign) equals.kind ≡ true → Is grammar Right zs r
    → Is grammar (Statement inside) us (assigned x r)
assigned_is inside {us} {xs} {zs} {x} {r} equals st cut h right = by_operand st.operand
  where
    whole : us ≡ st.front ++ (st.back ++ equals ∷ zs)
    whole = cut ∙ (ap (λ z. z ++ equals ∷ zs) st.cut ∙ append_assoc st.front st.back (equals ∷ zs))

    by_operand : Operand st.front st.first → Is grammar (Statement inside) us (assigned x r)
    by_operand (begins_named t ys ps g p front made) =
        let inner = put_together Rule.assigned_statement (ys ++ (st.back ++ equals ∷ zs)) (ps, (st.others, (equals, (r, tt))))
        (ys, st.back ++ equals ∷ zs, refl, p, (st.back, equals ∷ zs, refl, st.operators, (zs, refl, h, (zs, [], sym (append-nil zs), right, refl)))) in
        subst (λ z. Is grammar (Statement inside) us (assigned z r)) (sym (st.value ∙ ap (λ z. grouped z st.others) made))
        (put_together (Rule.named_statement {inside = inside}) us (t, (named.Assigned ps st.others r, tt))
        (ys ++ (st.back ++ equals ∷ zs), whole ∙ ap (λ z. z ++ (st.back ++ equals ∷ zs)) front, g, (ys ++ (st.back ++ equals ∷ zs), [], sym (append-nil (ys ++ (st.back ++ equals ∷ zs))), inner, refl)))
    by_operand (begins_other p) =
        subst (λ z. Is grammar (Statement inside) us (assigned z r)) (sym st.value)
        (put_together (Rule.other_statement {inside = inside}) us (st.first, (st.others, (equals, (r, tt))))
        (st.front, st.back ++ equals ∷ zs, whole, p, (st.back, equals ∷ zs, refl, st.operators, (zs, refl, h, (zs, [], sym (append-nil zs), right, refl)))))
