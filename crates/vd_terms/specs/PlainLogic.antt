-- What the values of `vd_logic` stand for: plain terms, facts, items, assertions, predicates, specifications and scopes.
use Rattle.std.specs.Prelude.{Bool, true, false, List, [], ◌∷◌, map}
use Rattle.vd_base.specs.declared.ctype.CType.{CType, CType-F, out-CType}
use Rattle.vd_base.specs.declared.ctype.CType.TheOpen as typ
use Rattle.vd_logic.specs.declared.term.Op.{Op}
use Rattle.vd_logic.specs.declared.term.Op.TheVariants as op
use Rattle.vd_logic.specs.declared.term.Term as term_type
use Rattle.vd_logic.specs.declared.term.Term.TheOpen as layer
use Rattle.vd_logic.specs.declared.assertion.Prop as prop_type
use Rattle.vd_logic.specs.declared.assertion.Prop.TheVariants as prop
use Rattle.vd_logic.specs.declared.assertion.Label as label_type
use Rattle.vd_logic.specs.declared.assertion.Item as item_type
use Rattle.vd_logic.specs.declared.assertion.Item.TheVariants as item
use Rattle.vd_logic.specs.declared.assertion.Assertion as assertion_type
use Rattle.vd_logic.specs.declared.assertion.Spec as spec_type
use Rattle.vd_logic.specs.declared.assertion.PredDef as predicate_type
use Rattle.vd_logic.specs.declared.assertion.LScope as scope_type
use Rattle.vd_terms.specs.declared.operation.Unary.TheVariants as unary
use Rattle.vd_terms.specs.declared.operation.Binary.TheVariants as binary
use Rattle.vd_terms.specs.declared.operation.Ternary.TheVariants as ternary
use Rattle.vd_terms.specs.declared.assertion.FactOf.TheVariants.{Rel, IsInt, IsPtr, Each}
use Rattle.vd_terms.specs.declared.assertion.ItemOf.TheVariants.{Data, Lock, Holds, Token, Pred}
use Rattle.vd_terms.specs.Terms.{Term, Number, Var, Named, Global, Undef, Nil, Of, Of2, Of3}
use Rattle.vd_terms.specs.Assertions.{Fact, Label, Item, Assertion, Predicate, Spec, Scope}

-- ---- terms

-- an operation of a wrong number of arguments is a name that no text has, and so of no sort
abbrev pub misshapen : Term
misshapen = Named []

abbrev pub of_none : Op → Term
of_none op.Undef = Undef
of_none op.Nil = Nil
of_none o = misshapen

abbrev pub of_one : Op → Term → Term
of_one op.Len a = Of unary.Len a
of_one op.Sum a = Of unary.Sum a
of_one op.Num a = Of unary.Num a
of_one op.Unum a = Of unary.Unum a
of_one op.Vi a = Of unary.Vi a
of_one op.Rev a = Of unary.Rev a
of_one o a = misshapen

abbrev pub of_two : Op → Term → Term → Term
of_two op.Add a b = Of2 binary.Add a b
of_two op.Sub a b = Of2 binary.Sub a b
of_two op.Mul a b = Of2 binary.Mul a b
of_two op.Quot a b = Of2 binary.Quot a b
of_two op.Rem a b = Of2 binary.Rem a b
of_two op.Band a b = Of2 binary.Band a b
of_two op.Bor a b = Of2 binary.Bor a b
of_two op.Bxor a b = Of2 binary.Bxor a b
of_two op.Shl a b = Of2 binary.Shl a b
of_two op.Shr a b = Of2 binary.Shr a b
of_two op.Lt a b = Of2 binary.Lt a b
of_two op.Le a b = Of2 binary.Le a b
of_two op.Eq a b = Of2 binary.Eq a b
of_two op.Off a b = Of2 binary.Off a b
of_two op.Nth a b = Of2 binary.Nth a b
of_two op.Cons a b = Of2 binary.Cons a b
of_two op.App a b = Of2 binary.App a b
of_two op.Rep a b = Of2 binary.Rep a b
of_two o a b = misshapen

abbrev pub of_three : Op → Term → Term → Term → Term
of_three op.Upd a b c = Of3 ternary.Upd a b c
of_three op.Slice a b c = Of3 ternary.Slice a b c
of_three o a b c = misshapen

abbrev pub operation : Op → List Term → Term
operation o [] = of_none o
operation o (a ∷ []) = of_one o a
operation o (a ∷ b ∷ []) = of_two o a b
operation o (a ∷ b ∷ c ∷ []) = of_three o a b c
operation o (a ∷ b ∷ c ∷ d ∷ ts) = misshapen

abbrev pub term_layer : term_type.Term-F Term → Term
term_layer (layer.Num n) = Number n
term_layer (layer.Var x s) = Var x s
term_layer (layer.Named name) = Named name
term_layer (layer.Global name) = Global name
term_layer (layer.App o args) = operation o args

-- the plain term of a term
unfoldable pub plain : term_type.Term → Term
plain = term_type.fold-Term Term term_layer

-- ---- assertions

abbrev pub plain_fact : prop_type.Prop → Fact
plain_fact (prop.Rel r a b) = Rel r (plain a) (plain b)
plain_fact (prop.IsInt v) = IsInt (plain v)
plain_fact (prop.IsPtr v) = IsPtr (plain v)
plain_fact (prop.Each l a b) = Each (plain l) (plain a) (plain b)

abbrev pub plain_label : label_type.Label → Label
plain_label l = record { name = l.name; args = map plain l.args }

abbrev pub plain_item : item_type.Item → Item
plain_item (item.Data s p l) = Data (plain s) (plain p) (plain l)
plain_item (item.Lock s p l) = Lock (plain s) (plain p) (plain_label l)
plain_item (item.Holds p l) = Holds (plain p) (plain_label l)
plain_item (item.Token p n) = Token (plain p) (plain n)
plain_item (item.Pred l) = Pred (plain_label l)

abbrev pub plain_assertion : assertion_type.Assertion → Assertion
plain_assertion a = record {
  opened = a.opened;
  facts = map plain_fact a.props;
  locals = map (λ x. (x.0, plain x.1)) a.locals;
  items = map plain_item a.items;
}

abbrev pub plain_predicate : predicate_type.PredDef → Predicate
plain_predicate p = record { name = p.name; args = p.args; cases = map plain_assertion p.cases }

abbrev pub is_void_layer : CType-F CType → Bool
is_void_layer typ.Void = true
is_void_layer t = false

-- of the types of a function it keeps whether there is a result
abbrev pub plain_spec : spec_type.Spec → Spec
plain_spec f = record {
  is_void = is_void_layer (out-CType f.ret);
  name = f.name;
  params = map (λ p. p.name) f.params;
  vars = f.with;
  pre = plain_assertion f.pre;
  post = plain_assertion f.post;
}

abbrev pub plain_scope : scope_type.LScope → Scope
plain_scope scope = record { predicates = map plain_predicate scope.preds; specs = map plain_spec scope.specs }
