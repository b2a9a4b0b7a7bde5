-- Each condition of each rule, where it holds and where it fails.
use Rattle.std.specs.Prelude.{◌≡◌, refl, pos, [], ◌∷◌, false, Some}
use Rattle.vd_terms.specs.Terms.{Number, Var, Named, Nil, Of, Of2}
use Rattle.vd_terms.specs.declared.assertion.FactOf.TheVariants.{Rel}
use Rattle.vd_terms.specs.declared.assertion.ItemOf.TheVariants.{Data}
use Rattle.vd_rules.specs.Computing.{computing}
use Rattle.vd_rules.specs.Verdicts.{Accepted, RefusedAt, body_verdict}
use Rattle.vd_terms.specs.declared.operation.Unary.TheVariants as unary
use Rattle.vd_terms.specs.declared.operation.Binary.TheVariants as binary
use Rattle.vd_logic.specs.declared.term.Sort.TheVariants as sort
use Rattle.vd_logic.specs.declared.assertion.Rel.TheVariants as relation
use Rattle.vd_logic.specs.declared.step.CertLine.TheVariants as line
use Rattle.vd_logic.specs.declared.step.Forgotten.TheVariants as forgotten
use Rattle.vd_clight.specs.declared.syntax.UnOp.TheVariants as one
use Rattle.vd_clight.specs.declared.syntax.BinOp.TheVariants as two
use Rattle.vd_clight.specs.declared.typed.Kind.TheVariants as kind
use Rattle.vd_clight.specs.declared.typed.Root.TheVariants as root
use Rattle.vd_steps.specs.Code as c
use Rattle.vd_steps.specs.Script as s
use Rattle.vd_examples.specs.Names.{name_a, name_b, name_f, name_p, name_q, name_t, name_v, name_w}

conditions_1 : body_verdict (record { predicates = ([]); specs = ((record { is_void = false; name = name_f; params = (name_p ∷ []); vars = ((name_v, sort.Val) ∷ []); pre = (record { opened = []; facts = ([]); locals = ((name_p, (Var 0 sort.Val)) ∷ []); items = ((Data (Number (pos 64)) (Var 0 sort.Val) (Of2 binary.Cons (Of unary.Vi (Number (pos 4))) Nil)) ∷ []) }); post = (record { opened = []; facts = ([]); locals = []; items = ((Data (Number (pos 64)) (Var 0 sort.Val) (Of2 binary.Cons (Of unary.Vi (Number (pos 4))) Nil)) ∷ []) }) }) ∷ []) }) (record { is_void = false; name = name_f; params = (name_p ∷ []); vars = ((name_v, sort.Val) ∷ []); pre = (record { opened = []; facts = ([]); locals = ((name_p, (Var 0 sort.Val)) ∷ []); items = ((Data (Number (pos 64)) (Var 0 sort.Val) (Of2 binary.Cons (Of unary.Vi (Number (pos 4))) Nil)) ∷ []) }); post = (record { opened = []; facts = ([]); locals = []; items = ((Data (Number (pos 64)) (Var 0 sort.Val) (Of2 binary.Cons (Of unary.Vi (Number (pos 4))) Nil)) ∷ []) }) }) (record { temps = (name_p ∷ name_t ∷ []); body = (c.Then (c.Load 1 (root.Temp 0) c.Here) (c.Then (c.Return (Some (c.Temp 1))) c.End)) }) (s.Then 1 (s.Forget (forgotten.Local name_p)) s.NoBlock (s.Then 2 (s.Load 0 ([]) ([])) s.NoBlock (s.Then 3 (s.Return ([]) ([]) ([])) s.NoBlock s.End))) ≡ (RefusedAt 2 3 2)
unfolding computing
conditions_1 = refl

conditions_2 : body_verdict (record { predicates = ([]); specs = ((record { is_void = false; name = name_f; params = (name_p ∷ []); vars = ((name_v, sort.Val) ∷ []); pre = (record { opened = []; facts = ([]); locals = ((name_p, (Var 0 sort.Val)) ∷ []); items = ((Data (Number (pos 64)) (Var 0 sort.Val) (Of2 binary.Cons (Of unary.Vi (Number (pos 4))) Nil)) ∷ []) }); post = (record { opened = []; facts = ([]); locals = []; items = ((Data (Number (pos 64)) (Var 0 sort.Val) (Of2 binary.Cons (Of unary.Vi (Number (pos 4))) Nil)) ∷ []) }) }) ∷ []) }) (record { is_void = false; name = name_f; params = (name_p ∷ []); vars = ((name_v, sort.Val) ∷ []); pre = (record { opened = []; facts = ([]); locals = ((name_p, (Var 0 sort.Val)) ∷ []); items = ((Data (Number (pos 64)) (Var 0 sort.Val) (Of2 binary.Cons (Of unary.Vi (Number (pos 4))) Nil)) ∷ []) }); post = (record { opened = []; facts = ([]); locals = []; items = ((Data (Number (pos 64)) (Var 0 sort.Val) (Of2 binary.Cons (Of unary.Vi (Number (pos 4))) Nil)) ∷ []) }) }) (record { temps = (name_p ∷ []); body = (c.Then (c.Store (root.Temp 0) c.Here (c.Const 1)) (c.Then (c.Return (Some (c.Const 0))) c.End)) }) (s.Then 1 (s.Forget (forgotten.Local name_p)) s.NoBlock (s.Then 2 (s.Store 0 ([]) ([])) s.NoBlock (s.Then 3 (s.Return ([]) ([]) ([])) s.NoBlock s.End))) ≡ (RefusedAt 2 4 2)
unfolding computing
conditions_2 = refl

conditions_3 : body_verdict (record { predicates = ([]); specs = ((record { is_void = false; name = name_f; params = (name_p ∷ name_q ∷ []); vars = ((name_v, sort.Val) ∷ []); pre = (record { opened = []; facts = ([]); locals = ((name_p, (Var 0 sort.Val)) ∷ []); items = ((Data (Number (pos 64)) (Var 0 sort.Val) (Of2 binary.Cons (Of unary.Vi (Number (pos 4))) Nil)) ∷ []) }); post = (record { opened = []; facts = ([]); locals = []; items = ((Data (Number (pos 64)) (Var 0 sort.Val) (Of2 binary.Cons (Of unary.Vi (Number (pos 4))) Nil)) ∷ []) }) }) ∷ []) }) (record { is_void = false; name = name_f; params = (name_p ∷ name_q ∷ []); vars = ((name_v, sort.Val) ∷ []); pre = (record { opened = []; facts = ([]); locals = ((name_p, (Var 0 sort.Val)) ∷ []); items = ((Data (Number (pos 64)) (Var 0 sort.Val) (Of2 binary.Cons (Of unary.Vi (Number (pos 4))) Nil)) ∷ []) }); post = (record { opened = []; facts = ([]); locals = []; items = ((Data (Number (pos 64)) (Var 0 sort.Val) (Of2 binary.Cons (Of unary.Vi (Number (pos 4))) Nil)) ∷ []) }) }) (record { temps = (name_p ∷ name_q ∷ []); body = (c.Then (c.Store (root.Temp 0) c.Here (c.Temp 1)) (c.Then (c.Return (Some (c.Const 0))) c.End)) }) (s.Then 1 (s.Store 0 ([]) ([])) s.NoBlock (s.Then 2 (s.Return ([]) ([]) ([])) s.NoBlock s.End)) ≡ (RefusedAt 1 4 2)
unfolding computing
conditions_3 = refl

conditions_4 : body_verdict (record { predicates = ([]); specs = ((record { is_void = false; name = name_f; params = (name_p ∷ []); vars = ((name_v, sort.Val) ∷ []); pre = (record { opened = []; facts = ([]); locals = ((name_p, (Var 0 sort.Val)) ∷ []); items = ((Data (Number (pos 64)) (Var 0 sort.Val) (Of2 binary.Cons (Of unary.Vi (Number (pos 4))) Nil)) ∷ []) }); post = (record { opened = []; facts = ([]); locals = []; items = ((Data (Number (pos 64)) (Var 0 sort.Val) (Of2 binary.Cons (Of unary.Vi (Number (pos 4))) Nil)) ∷ []) }) }) ∷ []) }) (record { is_void = false; name = name_f; params = (name_p ∷ []); vars = ((name_v, sort.Val) ∷ []); pre = (record { opened = []; facts = ([]); locals = ((name_p, (Var 0 sort.Val)) ∷ []); items = ((Data (Number (pos 64)) (Var 0 sort.Val) (Of2 binary.Cons (Of unary.Vi (Number (pos 4))) Nil)) ∷ []) }); post = (record { opened = []; facts = ([]); locals = []; items = ((Data (Number (pos 64)) (Var 0 sort.Val) (Of2 binary.Cons (Of unary.Vi (Number (pos 4))) Nil)) ∷ []) }) }) (record { temps = (name_p ∷ name_t ∷ []); body = (c.Then (c.Return (Some (c.Temp 1))) c.End) }) (s.Then 1 (s.Return ([]) ([]) ([])) s.NoBlock s.End) ≡ (RefusedAt 1 9 2)
unfolding computing
conditions_4 = refl

conditions_5 : body_verdict (record { predicates = ([]); specs = ((record { is_void = false; name = name_f; params = (name_p ∷ []); vars = ((name_v, sort.Val) ∷ []); pre = (record { opened = []; facts = ([]); locals = ((name_p, (Var 0 sort.Val)) ∷ []); items = ((Data (Number (pos 64)) (Var 0 sort.Val) (Of2 binary.Cons (Of unary.Vi (Number (pos 4))) Nil)) ∷ []) }); post = (record { opened = []; facts = ([]); locals = []; items = ((Data (Number (pos 64)) (Var 0 sort.Val) (Of2 binary.Cons (Of unary.Vi (Number (pos 4))) Nil)) ∷ []) }) }) ∷ []) }) (record { is_void = false; name = name_f; params = (name_p ∷ []); vars = ((name_v, sort.Val) ∷ []); pre = (record { opened = []; facts = ([]); locals = ((name_p, (Var 0 sort.Val)) ∷ []); items = ((Data (Number (pos 64)) (Var 0 sort.Val) (Of2 binary.Cons (Of unary.Vi (Number (pos 4))) Nil)) ∷ []) }); post = (record { opened = []; facts = ([]); locals = []; items = ((Data (Number (pos 64)) (Var 0 sort.Val) (Of2 binary.Cons (Of unary.Vi (Number (pos 4))) Nil)) ∷ []) }) }) (record { temps = (name_p ∷ name_t ∷ []); body = (c.Then (c.If (c.Nonzero kind.Signed (c.Binary two.Eq kind.Signed (c.Temp 1) (c.Const 0))) (c.Then (c.Return (Some (c.Const 0))) c.End) c.End) (c.Then (c.Return (Some (c.Const 1))) c.End)) }) (s.Then 1 (s.If ([]) ([]) ([]) ([])) (s.WithBlock (s.Then 2 (s.Return ([]) ([]) ([])) s.NoBlock s.End) (s.WithBlock (s.Then 3 (s.Return ([]) ([]) ([])) s.NoBlock s.End) s.NoBlock)) s.End) ≡ (RefusedAt 1 5 2)
unfolding computing
conditions_5 = refl

conditions_6 : body_verdict (record { predicates = ([]); specs = ((record { is_void = false; name = name_f; params = (name_p ∷ []); vars = ((name_v, sort.Val) ∷ (name_w, sort.Val) ∷ []); pre = (record { opened = []; facts = ([]); locals = ((name_p, (Var 0 sort.Val)) ∷ []); items = ((Data (Number (pos 64)) (Var 1 sort.Val) (Of2 binary.Cons (Of unary.Vi (Number (pos 4))) Nil)) ∷ []) }); post = (record { opened = []; facts = ([]); locals = []; items = ((Data (Number (pos 64)) (Var 1 sort.Val) (Of2 binary.Cons (Of unary.Vi (Number (pos 4))) Nil)) ∷ []) }) }) ∷ []) }) (record { is_void = false; name = name_f; params = (name_p ∷ []); vars = ((name_v, sort.Val) ∷ (name_w, sort.Val) ∷ []); pre = (record { opened = []; facts = ([]); locals = ((name_p, (Var 0 sort.Val)) ∷ []); items = ((Data (Number (pos 64)) (Var 1 sort.Val) (Of2 binary.Cons (Of unary.Vi (Number (pos 4))) Nil)) ∷ []) }); post = (record { opened = []; facts = ([]); locals = []; items = ((Data (Number (pos 64)) (Var 1 sort.Val) (Of2 binary.Cons (Of unary.Vi (Number (pos 4))) Nil)) ∷ []) }) }) (record { temps = (name_p ∷ name_t ∷ []); body = (c.Then (c.Load 1 (root.Temp 0) c.Here) (c.Then (c.Return (Some (c.Temp 1))) c.End)) }) (s.Then 1 (s.Load 0 ([]) ([])) s.NoBlock (s.Then 2 (s.Return ([]) ([]) ([])) s.NoBlock s.End)) ≡ (RefusedAt 1 3 1)
unfolding computing
conditions_6 = refl

conditions_7 : body_verdict (record { predicates = ([]); specs = ((record { is_void = false; name = name_f; params = (name_p ∷ []); vars = ((name_v, sort.Val) ∷ (name_w, sort.Val) ∷ []); pre = (record { opened = []; facts = ([]); locals = ((name_p, (Var 0 sort.Val)) ∷ []); items = ((Data (Number (pos 64)) (Var 1 sort.Val) (Of2 binary.Cons (Of unary.Vi (Number (pos 4))) Nil)) ∷ []) }); post = (record { opened = []; facts = ([]); locals = []; items = ((Data (Number (pos 64)) (Var 1 sort.Val) (Of2 binary.Cons (Of unary.Vi (Number (pos 4))) Nil)) ∷ []) }) }) ∷ []) }) (record { is_void = false; name = name_f; params = (name_p ∷ []); vars = ((name_v, sort.Val) ∷ (name_w, sort.Val) ∷ []); pre = (record { opened = []; facts = ([]); locals = ((name_p, (Var 0 sort.Val)) ∷ []); items = ((Data (Number (pos 64)) (Var 1 sort.Val) (Of2 binary.Cons (Of unary.Vi (Number (pos 4))) Nil)) ∷ []) }); post = (record { opened = []; facts = ([]); locals = []; items = ((Data (Number (pos 64)) (Var 1 sort.Val) (Of2 binary.Cons (Of unary.Vi (Number (pos 4))) Nil)) ∷ []) }) }) (record { temps = (name_p ∷ []); body = (c.Then (c.Store (root.Temp 0) c.Here (c.Const 4)) (c.Then (c.Return (Some (c.Const 0))) c.End)) }) (s.Then 1 (s.Store 0 ([]) ([])) s.NoBlock (s.Then 2 (s.Return ([]) ([]) ([])) s.NoBlock s.End)) ≡ (RefusedAt 1 4 1)
unfolding computing
conditions_7 = refl

conditions_8 : body_verdict (record { predicates = ([]); specs = ((record { is_void = false; name = name_f; params = (name_p ∷ []); vars = ((name_v, sort.Val) ∷ (name_w, sort.Val) ∷ []); pre = (record { opened = []; facts = ([]); locals = ((name_p, (Var 0 sort.Val)) ∷ []); items = ((Data (Number (pos 64)) (Of2 binary.Off (Var 0 sort.Val) (Number (pos 1))) (Of2 binary.Cons (Of unary.Vi (Number (pos 4))) Nil)) ∷ []) }); post = (record { opened = []; facts = ([]); locals = []; items = ((Data (Number (pos 64)) (Of2 binary.Off (Var 0 sort.Val) (Number (pos 1))) (Of2 binary.Cons (Of unary.Vi (Number (pos 4))) Nil)) ∷ []) }) }) ∷ []) }) (record { is_void = false; name = name_f; params = (name_p ∷ []); vars = ((name_v, sort.Val) ∷ (name_w, sort.Val) ∷ []); pre = (record { opened = []; facts = ([]); locals = ((name_p, (Var 0 sort.Val)) ∷ []); items = ((Data (Number (pos 64)) (Of2 binary.Off (Var 0 sort.Val) (Number (pos 1))) (Of2 binary.Cons (Of unary.Vi (Number (pos 4))) Nil)) ∷ []) }); post = (record { opened = []; facts = ([]); locals = []; items = ((Data (Number (pos 64)) (Of2 binary.Off (Var 0 sort.Val) (Number (pos 1))) (Of2 binary.Cons (Of unary.Vi (Number (pos 4))) Nil)) ∷ []) }) }) (record { temps = (name_p ∷ name_t ∷ []); body = (c.Then (c.Load 1 (root.Temp 0) c.Here) (c.Then (c.Return (Some (c.Temp 1))) c.End)) }) (s.Then 1 (s.Load 0 ([]) ([])) s.NoBlock (s.Then 2 (s.Return ([]) ([]) ([])) s.NoBlock s.End)) ≡ (RefusedAt 1 3 3)
unfolding computing
conditions_8 = refl

conditions_9 : body_verdict (record { predicates = ([]); specs = ((record { is_void = false; name = name_f; params = (name_p ∷ []); vars = ((name_v, sort.Val) ∷ (name_w, sort.Val) ∷ []); pre = (record { opened = []; facts = ([]); locals = ((name_p, (Var 0 sort.Val)) ∷ []); items = ((Data (Number (pos 64)) (Of2 binary.Off (Var 0 sort.Val) (Number (pos 1))) (Of2 binary.Cons (Of unary.Vi (Number (pos 4))) Nil)) ∷ []) }); post = (record { opened = []; facts = ([]); locals = []; items = ((Data (Number (pos 64)) (Of2 binary.Off (Var 0 sort.Val) (Number (pos 1))) (Of2 binary.Cons (Of unary.Vi (Number (pos 4))) Nil)) ∷ []) }) }) ∷ []) }) (record { is_void = false; name = name_f; params = (name_p ∷ []); vars = ((name_v, sort.Val) ∷ (name_w, sort.Val) ∷ []); pre = (record { opened = []; facts = ([]); locals = ((name_p, (Var 0 sort.Val)) ∷ []); items = ((Data (Number (pos 64)) (Of2 binary.Off (Var 0 sort.Val) (Number (pos 1))) (Of2 binary.Cons (Of unary.Vi (Number (pos 4))) Nil)) ∷ []) }); post = (record { opened = []; facts = ([]); locals = []; items = ((Data (Number (pos 64)) (Of2 binary.Off (Var 0 sort.Val) (Number (pos 1))) (Of2 binary.Cons (Of unary.Vi (Number (pos 4))) Nil)) ∷ []) }) }) (record { temps = (name_p ∷ []); body = (c.Then (c.Store (root.Temp 0) c.Here (c.Const 4)) (c.Then (c.Return (Some (c.Const 0))) c.End)) }) (s.Then 1 (s.Store 0 ([]) ([])) s.NoBlock (s.Then 2 (s.Return ([]) ([]) ([])) s.NoBlock s.End)) ≡ (RefusedAt 1 4 3)
unfolding computing
conditions_9 = refl

conditions_10 : body_verdict (record { predicates = ([]); specs = ((record { is_void = false; name = name_f; params = (name_p ∷ []); vars = ((name_v, sort.Val) ∷ (name_w, sort.Val) ∷ []); pre = (record { opened = []; facts = ([]); locals = ((name_p, (Var 0 sort.Val)) ∷ []); items = ((Data (Number (pos 64)) (Of2 binary.Off (Var 0 sort.Val) (Of2 binary.Sub (Number (pos 0)) (Number (pos 1)))) (Of2 binary.Cons (Of unary.Vi (Number (pos 4))) Nil)) ∷ []) }); post = (record { opened = []; facts = ([]); locals = []; items = ((Data (Number (pos 64)) (Of2 binary.Off (Var 0 sort.Val) (Of2 binary.Sub (Number (pos 0)) (Number (pos 1)))) (Of2 binary.Cons (Of unary.Vi (Number (pos 4))) Nil)) ∷ []) }) }) ∷ []) }) (record { is_void = false; name = name_f; params = (name_p ∷ []); vars = ((name_v, sort.Val) ∷ (name_w, sort.Val) ∷ []); pre = (record { opened = []; facts = ([]); locals = ((name_p, (Var 0 sort.Val)) ∷ []); items = ((Data (Number (pos 64)) (Of2 binary.Off (Var 0 sort.Val) (Of2 binary.Sub (Number (pos 0)) (Number (pos 1)))) (Of2 binary.Cons (Of unary.Vi (Number (pos 4))) Nil)) ∷ []) }); post = (record { opened = []; facts = ([]); locals = []; items = ((Data (Number (pos 64)) (Of2 binary.Off (Var 0 sort.Val) (Of2 binary.Sub (Number (pos 0)) (Number (pos 1)))) (Of2 binary.Cons (Of unary.Vi (Number (pos 4))) Nil)) ∷ []) }) }) (record { temps = (name_p ∷ name_t ∷ []); body = (c.Then (c.Load 1 (root.Temp 0) c.Here) (c.Then (c.Return (Some (c.Temp 1))) c.End)) }) (s.Then 1 (s.Load 0 ([]) ([])) s.NoBlock (s.Then 2 (s.Return ([]) ([]) ([])) s.NoBlock s.End)) ≡ (RefusedAt 1 3 3)
unfolding computing
conditions_10 = refl

conditions_11 : body_verdict (record { predicates = ([]); specs = ((record { is_void = false; name = name_f; params = (name_p ∷ []); vars = ((name_v, sort.Val) ∷ (name_w, sort.Val) ∷ []); pre = (record { opened = []; facts = ([]); locals = ((name_p, (Var 0 sort.Val)) ∷ []); items = ((Data (Number (pos 64)) (Of2 binary.Off (Var 0 sort.Val) (Of2 binary.Sub (Number (pos 0)) (Number (pos 1)))) (Of2 binary.Cons (Of unary.Vi (Number (pos 4))) Nil)) ∷ []) }); post = (record { opened = []; facts = ([]); locals = []; items = ((Data (Number (pos 64)) (Of2 binary.Off (Var 0 sort.Val) (Of2 binary.Sub (Number (pos 0)) (Number (pos 1)))) (Of2 binary.Cons (Of unary.Vi (Number (pos 4))) Nil)) ∷ []) }) }) ∷ []) }) (record { is_void = false; name = name_f; params = (name_p ∷ []); vars = ((name_v, sort.Val) ∷ (name_w, sort.Val) ∷ []); pre = (record { opened = []; facts = ([]); locals = ((name_p, (Var 0 sort.Val)) ∷ []); items = ((Data (Number (pos 64)) (Of2 binary.Off (Var 0 sort.Val) (Of2 binary.Sub (Number (pos 0)) (Number (pos 1)))) (Of2 binary.Cons (Of unary.Vi (Number (pos 4))) Nil)) ∷ []) }); post = (record { opened = []; facts = ([]); locals = []; items = ((Data (Number (pos 64)) (Of2 binary.Off (Var 0 sort.Val) (Of2 binary.Sub (Number (pos 0)) (Number (pos 1)))) (Of2 binary.Cons (Of unary.Vi (Number (pos 4))) Nil)) ∷ []) }) }) (record { temps = (name_p ∷ []); body = (c.Then (c.Store (root.Temp 0) c.Here (c.Const 4)) (c.Then (c.Return (Some (c.Const 0))) c.End)) }) (s.Then 1 (s.Store 0 ([]) ([])) s.NoBlock (s.Then 2 (s.Return ([]) ([]) ([])) s.NoBlock s.End)) ≡ (RefusedAt 1 4 3)
unfolding computing
conditions_11 = refl

conditions_12 : body_verdict (record { predicates = ([]); specs = ((record { is_void = false; name = name_f; params = (name_p ∷ []); vars = ((name_v, sort.Val) ∷ []); pre = (record { opened = []; facts = ([]); locals = ((name_p, (Var 0 sort.Val)) ∷ []); items = ((Data (Number (pos 64)) (Var 0 sort.Val) (Of2 binary.Cons (Of unary.Vi (Number (pos 4))) Nil)) ∷ []) }); post = (record { opened = []; facts = ([]); locals = []; items = ((Data (Number (pos 64)) (Var 0 sort.Val) (Of2 binary.Cons (Of unary.Vi (Number (pos 4))) Nil)) ∷ []) }) }) ∷ []) }) (record { is_void = false; name = name_f; params = (name_p ∷ []); vars = ((name_v, sort.Val) ∷ []); pre = (record { opened = []; facts = ([]); locals = ((name_p, (Var 0 sort.Val)) ∷ []); items = ((Data (Number (pos 64)) (Var 0 sort.Val) (Of2 binary.Cons (Of unary.Vi (Number (pos 4))) Nil)) ∷ []) }); post = (record { opened = []; facts = ([]); locals = []; items = ((Data (Number (pos 64)) (Var 0 sort.Val) (Of2 binary.Cons (Of unary.Vi (Number (pos 4))) Nil)) ∷ []) }) }) (record { temps = (name_p ∷ []); body = (c.Then (c.Store (root.Temp 0) c.Here (c.Const 4)) (c.Then (c.Return (Some (c.Const 0))) c.End)) }) (s.Then 1 (s.Store 0 ([]) ([])) s.NoBlock (s.Then 2 (s.Return ([]) ([]) ([])) s.NoBlock s.End)) ≡ Accepted
unfolding computing
conditions_12 = refl

conditions_13 : body_verdict (record { predicates = ([]); specs = ((record { is_void = false; name = name_f; params = (name_p ∷ []); vars = ((name_v, sort.Val) ∷ []); pre = (record { opened = []; facts = ([]); locals = ((name_p, (Var 0 sort.Val)) ∷ []); items = ((Data (Number (pos 64)) (Var 0 sort.Val) (Of2 binary.Cons (Of unary.Vi (Number (pos 4))) Nil)) ∷ []) }); post = (record { opened = []; facts = ([]); locals = []; items = ((Data (Number (pos 64)) (Var 0 sort.Val) (Of2 binary.Cons (Of unary.Vi (Number (pos 4))) Nil)) ∷ []) }) }) ∷ []) }) (record { is_void = false; name = name_f; params = (name_p ∷ []); vars = ((name_v, sort.Val) ∷ []); pre = (record { opened = []; facts = ([]); locals = ((name_p, (Var 0 sort.Val)) ∷ []); items = ((Data (Number (pos 64)) (Var 0 sort.Val) (Of2 binary.Cons (Of unary.Vi (Number (pos 4))) Nil)) ∷ []) }); post = (record { opened = []; facts = ([]); locals = []; items = ((Data (Number (pos 64)) (Var 0 sort.Val) (Of2 binary.Cons (Of unary.Vi (Number (pos 4))) Nil)) ∷ []) }) }) (record { temps = (name_p ∷ name_t ∷ []); body = (c.Then (c.Load 1 (root.Temp 0) (c.Index kind.Signed (c.Const 0) c.Here)) (c.Then (c.Return (Some (c.Temp 1))) c.End)) }) (s.Then 1 (s.Load 0 ([]) ([])) s.NoBlock (s.Then 2 (s.Return ([]) ([]) ([])) s.NoBlock s.End)) ≡ Accepted
unfolding computing
conditions_13 = refl

conditions_14 : body_verdict (record { predicates = ([]); specs = ((record { is_void = false; name = name_f; params = (name_p ∷ []); vars = ((name_v, sort.Val) ∷ []); pre = (record { opened = []; facts = ([]); locals = ((name_p, (Var 0 sort.Val)) ∷ []); items = ((Data (Number (pos 64)) (Var 0 sort.Val) (Of2 binary.Cons (Of unary.Vi (Number (pos 4))) Nil)) ∷ []) }); post = (record { opened = []; facts = ([]); locals = []; items = ((Data (Number (pos 64)) (Var 0 sort.Val) (Of2 binary.Cons (Of unary.Vi (Number (pos 4))) Nil)) ∷ []) }) }) ∷ []) }) (record { is_void = false; name = name_f; params = (name_p ∷ []); vars = ((name_v, sort.Val) ∷ []); pre = (record { opened = []; facts = ([]); locals = ((name_p, (Var 0 sort.Val)) ∷ []); items = ((Data (Number (pos 64)) (Var 0 sort.Val) (Of2 binary.Cons (Of unary.Vi (Number (pos 4))) Nil)) ∷ []) }); post = (record { opened = []; facts = ([]); locals = []; items = ((Data (Number (pos 64)) (Var 0 sort.Val) (Of2 binary.Cons (Of unary.Vi (Number (pos 4))) Nil)) ∷ []) }) }) (record { temps = (name_p ∷ name_t ∷ []); body = (c.Then (c.Load 1 (root.Temp 0) c.Here) (c.Then (c.Return (Some (c.Temp 1))) c.End)) }) (s.Then 1 (s.Load 1 ([]) ([])) s.NoBlock (s.Then 2 (s.Return ([]) ([]) ([])) s.NoBlock s.End)) ≡ (RefusedAt 1 3 1)
unfolding computing
conditions_14 = refl

conditions_15 : body_verdict (record { predicates = ([]); specs = ((record { is_void = false; name = name_f; params = (name_p ∷ []); vars = ((name_v, sort.Val) ∷ []); pre = (record { opened = []; facts = ([]); locals = ((name_p, (Var 0 sort.Val)) ∷ []); items = ((Data (Number (pos 64)) (Var 0 sort.Val) (Of2 binary.Cons (Of unary.Vi (Number (pos 4))) Nil)) ∷ []) }); post = (record { opened = []; facts = ([]); locals = []; items = ((Data (Number (pos 64)) (Var 0 sort.Val) (Of2 binary.Cons (Of unary.Vi (Number (pos 4))) Nil)) ∷ []) }) }) ∷ []) }) (record { is_void = false; name = name_f; params = (name_p ∷ []); vars = ((name_v, sort.Val) ∷ []); pre = (record { opened = []; facts = ([]); locals = ((name_p, (Var 0 sort.Val)) ∷ []); items = ((Data (Number (pos 64)) (Var 0 sort.Val) (Of2 binary.Cons (Of unary.Vi (Number (pos 4))) Nil)) ∷ []) }); post = (record { opened = []; facts = ([]); locals = []; items = ((Data (Number (pos 64)) (Var 0 sort.Val) (Of2 binary.Cons (Of unary.Vi (Number (pos 4))) Nil)) ∷ []) }) }) (record { temps = (name_p ∷ []); body = (c.Then (c.Store (root.Temp 0) c.Here (c.Const 4)) (c.Then (c.Return (Some (c.Const 0))) c.End)) }) (s.Then 1 (s.Store 1 ([]) ([])) s.NoBlock (s.Then 2 (s.Return ([]) ([]) ([])) s.NoBlock s.End)) ≡ (RefusedAt 1 4 1)
unfolding computing
conditions_15 = refl

conditions_16 : body_verdict (record { predicates = ([]); specs = ((record { is_void = false; name = name_f; params = (name_p ∷ []); vars = ((name_v, sort.Val) ∷ []); pre = (record { opened = []; facts = ([]); locals = ((name_p, (Var 0 sort.Val)) ∷ []); items = ((Data (Number (pos 64)) (Var 0 sort.Val) (Of2 binary.Cons (Of unary.Vi (Number (pos 4))) Nil)) ∷ []) }); post = (record { opened = []; facts = ([]); locals = []; items = ((Data (Number (pos 64)) (Var 0 sort.Val) (Of2 binary.Cons (Of unary.Vi (Number (pos 4))) Nil)) ∷ []) }) }) ∷ []) }) (record { is_void = false; name = name_f; params = (name_p ∷ []); vars = ((name_v, sort.Val) ∷ []); pre = (record { opened = []; facts = ([]); locals = ((name_p, (Var 0 sort.Val)) ∷ []); items = ((Data (Number (pos 64)) (Var 0 sort.Val) (Of2 binary.Cons (Of unary.Vi (Number (pos 4))) Nil)) ∷ []) }); post = (record { opened = []; facts = ([]); locals = []; items = ((Data (Number (pos 64)) (Var 0 sort.Val) (Of2 binary.Cons (Of unary.Vi (Number (pos 4))) Nil)) ∷ []) }) }) (record { temps = (name_p ∷ name_t ∷ []); body = (c.Then (c.Load 1 (root.Temp 0) (c.Index kind.Signed (c.Const 1) c.Here)) (c.Then (c.Return (Some (c.Temp 1))) c.End)) }) (s.Then 1 (s.Load 0 ([]) ([])) s.NoBlock (s.Then 2 (s.Return ([]) ([]) ([])) s.NoBlock s.End)) ≡ (RefusedAt 1 3 3)
unfolding computing
conditions_16 = refl

conditions_17 : body_verdict (record { predicates = ([]); specs = ((record { is_void = false; name = name_f; params = (name_p ∷ []); vars = ((name_v, sort.Val) ∷ []); pre = (record { opened = []; facts = ([]); locals = ((name_p, (Var 0 sort.Val)) ∷ []); items = ((Data (Number (pos 64)) (Var 0 sort.Val) (Of2 binary.Cons (Of unary.Vi (Number (pos 4))) Nil)) ∷ []) }); post = (record { opened = []; facts = ([]); locals = []; items = ((Data (Number (pos 64)) (Var 0 sort.Val) (Of2 binary.Cons (Of unary.Vi (Number (pos 4))) Nil)) ∷ []) }) }) ∷ []) }) (record { is_void = false; name = name_f; params = (name_p ∷ []); vars = ((name_v, sort.Val) ∷ []); pre = (record { opened = []; facts = ([]); locals = ((name_p, (Var 0 sort.Val)) ∷ []); items = ((Data (Number (pos 64)) (Var 0 sort.Val) (Of2 binary.Cons (Of unary.Vi (Number (pos 4))) Nil)) ∷ []) }); post = (record { opened = []; facts = ([]); locals = []; items = ((Data (Number (pos 64)) (Var 0 sort.Val) (Of2 binary.Cons (Of unary.Vi (Number (pos 4))) Nil)) ∷ []) }) }) (record { temps = (name_p ∷ name_t ∷ []); body = (c.Then (c.Load 1 (root.Temp 0) c.Here) (c.Then (c.Return (Some (c.Temp 1))) c.End)) }) (s.Then 1 (s.Load 0 (0 ∷ []) ([])) s.NoBlock (s.Then 2 (s.Return ([]) ([]) ([])) s.NoBlock s.End)) ≡ (RefusedAt 1 3 1)
unfolding computing
conditions_17 = refl

conditions_18 : body_verdict (record { predicates = ([]); specs = ((record { is_void = false; name = name_f; params = (name_p ∷ []); vars = ((name_v, sort.Val) ∷ []); pre = (record { opened = []; facts = ([]); locals = ((name_p, (Var 0 sort.Val)) ∷ []); items = ((Data (Number (pos 64)) (Var 0 sort.Val) (Of2 binary.Cons (Of unary.Vi (Number (pos 4))) Nil)) ∷ []) }); post = (record { opened = []; facts = ([]); locals = []; items = ((Data (Number (pos 64)) (Var 0 sort.Val) (Of2 binary.Cons (Of unary.Vi (Number (pos 4))) Nil)) ∷ []) }) }) ∷ []) }) (record { is_void = false; name = name_f; params = (name_p ∷ []); vars = ((name_v, sort.Val) ∷ []); pre = (record { opened = []; facts = ([]); locals = ((name_p, (Var 0 sort.Val)) ∷ []); items = ((Data (Number (pos 64)) (Var 0 sort.Val) (Of2 binary.Cons (Of unary.Vi (Number (pos 4))) Nil)) ∷ []) }); post = (record { opened = []; facts = ([]); locals = []; items = ((Data (Number (pos 64)) (Var 0 sort.Val) (Of2 binary.Cons (Of unary.Vi (Number (pos 4))) Nil)) ∷ []) }) }) (record { temps = (name_p ∷ name_t ∷ []); body = (c.Then (c.Load 1 (root.Temp 0) c.Here) (c.Then (c.Return (Some (c.Temp 1))) c.End)) }) (s.Then 1 (s.Load 0 ([]) ((record { lines = ((line.Comb (((pos 1), 0) ∷ [])) ∷ []) }) ∷ [])) s.NoBlock (s.Then 2 (s.Return ([]) ([]) ([])) s.NoBlock s.End)) ≡ (RefusedAt 1 3 3)
unfolding computing
conditions_18 = refl

conditions_19 : body_verdict (record { predicates = ([]); specs = ((record { is_void = false; name = name_f; params = (name_p ∷ []); vars = ((name_a, sort.Int) ∷ []); pre = (record { opened = []; facts = ((Rel relation.Le (Of2 binary.Sub (Number (pos 0)) (Number (pos 2147483647))) (Var 0 sort.Int)) ∷ (Rel relation.Le (Var 0 sort.Int) (Number (pos 0))) ∷ []); locals = ((name_p, (Of unary.Vi (Var 0 sort.Int))) ∷ []); items = ([]) }); post = (record { opened = []; facts = ([]); locals = []; items = ([]) }) }) ∷ []) }) (record { is_void = false; name = name_f; params = (name_p ∷ []); vars = ((name_a, sort.Int) ∷ []); pre = (record { opened = []; facts = ((Rel relation.Le (Of2 binary.Sub (Number (pos 0)) (Number (pos 2147483647))) (Var 0 sort.Int)) ∷ (Rel relation.Le (Var 0 sort.Int) (Number (pos 0))) ∷ []); locals = ((name_p, (Of unary.Vi (Var 0 sort.Int))) ∷ []); items = ([]) }); post = (record { opened = []; facts = ([]); locals = []; items = ([]) }) }) (record { temps = (name_p ∷ name_t ∷ []); body = (c.Then (c.Set 1 (c.Unary one.Minus kind.Signed (c.Temp 0))) (c.Then (c.Return (Some (c.Const 0))) c.End)) }) (s.Then 1 (s.Set ([]) ((record { lines = ((line.Comb (((pos 1), 0) ∷ ((pos 1), 2) ∷ [])) ∷ []) }) ∷ (record { lines = ((line.Comb (((pos 1), 1) ∷ ((pos 1), 2) ∷ [])) ∷ []) }) ∷ (record { lines = ((line.Comb (((pos 1), 1) ∷ ((pos 1), 2) ∷ [])) ∷ []) }) ∷ (record { lines = ((line.Comb (((pos 1), 0) ∷ ((pos 1), 2) ∷ [])) ∷ []) }) ∷ [])) s.NoBlock (s.Then 2 (s.Return ([]) ([]) ([])) s.NoBlock s.End)) ≡ (RefusedAt 1 2 3)
unfolding computing
conditions_19 = refl

conditions_20 : body_verdict (record { predicates = ([]); specs = ((record { is_void = false; name = name_f; params = (name_p ∷ []); vars = ((name_a, sort.Int) ∷ []); pre = (record { opened = []; facts = ((Rel relation.Le (Of2 binary.Sub (Number (pos 0)) (Number (pos 2147483647))) (Var 0 sort.Int)) ∷ (Rel relation.Le (Var 0 sort.Int) (Number (pos 0))) ∷ []); locals = ((name_p, (Of unary.Vi (Var 0 sort.Int))) ∷ []); items = ([]) }); post = (record { opened = []; facts = ([]); locals = []; items = ([]) }) }) ∷ []) }) (record { is_void = false; name = name_f; params = (name_p ∷ []); vars = ((name_a, sort.Int) ∷ []); pre = (record { opened = []; facts = ((Rel relation.Le (Of2 binary.Sub (Number (pos 0)) (Number (pos 2147483647))) (Var 0 sort.Int)) ∷ (Rel relation.Le (Var 0 sort.Int) (Number (pos 0))) ∷ []); locals = ((name_p, (Of unary.Vi (Var 0 sort.Int))) ∷ []); items = ([]) }); post = (record { opened = []; facts = ([]); locals = []; items = ([]) }) }) (record { temps = (name_p ∷ name_t ∷ []); body = (c.Then (c.Set 1 (c.Unary one.Minus kind.Signed (c.Temp 0))) (c.Then (c.Return (Some (c.Const 0))) c.End)) }) (s.Then 1 (s.Set ([]) ((record { lines = ((line.Comb (((pos 1), 0) ∷ ((pos 1), 2) ∷ [])) ∷ []) }) ∷ (record { lines = ((line.Comb (((pos 1), 1) ∷ ((pos 1), 2) ∷ [])) ∷ []) }) ∷ (record { lines = ((line.Comb (((pos 1), 0) ∷ ((pos 1), 2) ∷ [])) ∷ []) }) ∷ (record { lines = ((line.Comb (((pos 1), 1) ∷ ((pos 1), 2) ∷ [])) ∷ []) }) ∷ [])) s.NoBlock (s.Then 2 (s.Return ([]) ([]) ([])) s.NoBlock s.End)) ≡ (RefusedAt 1 2 3)
unfolding computing
conditions_20 = refl

conditions_21 : body_verdict (record { predicates = ([]); specs = ((record { is_void = false; name = name_f; params = (name_p ∷ []); vars = ((name_a, sort.Int) ∷ []); pre = (record { opened = []; facts = ((Rel relation.Le (Of2 binary.Sub (Number (pos 0)) (Number (pos 2147483648))) (Var 0 sort.Int)) ∷ (Rel relation.Le (Var 0 sort.Int) (Number (pos 0))) ∷ []); locals = ((name_p, (Of unary.Vi (Var 0 sort.Int))) ∷ []); items = ([]) }); post = (record { opened = []; facts = ([]); locals = []; items = ([]) }) }) ∷ []) }) (record { is_void = false; name = name_f; params = (name_p ∷ []); vars = ((name_a, sort.Int) ∷ []); pre = (record { opened = []; facts = ((Rel relation.Le (Of2 binary.Sub (Number (pos 0)) (Number (pos 2147483648))) (Var 0 sort.Int)) ∷ (Rel relation.Le (Var 0 sort.Int) (Number (pos 0))) ∷ []); locals = ((name_p, (Of unary.Vi (Var 0 sort.Int))) ∷ []); items = ([]) }); post = (record { opened = []; facts = ([]); locals = []; items = ([]) }) }) (record { temps = (name_p ∷ name_t ∷ []); body = (c.Then (c.Set 1 (c.Unary one.Minus kind.Signed (c.Temp 0))) (c.Then (c.Return (Some (c.Const 0))) c.End)) }) (s.Then 1 (s.Set ([]) ((record { lines = ((line.Comb (((pos 1), 0) ∷ ((pos 1), 2) ∷ [])) ∷ []) }) ∷ (record { lines = ((line.Comb (((pos 1), 1) ∷ ((pos 1), 2) ∷ [])) ∷ []) }) ∷ (record { lines = ((line.Comb (((pos 1), 1) ∷ ((pos 1), 2) ∷ [])) ∷ []) }) ∷ (record { lines = ((line.Comb (((pos 1), 0) ∷ ((pos 1), 2) ∷ [])) ∷ []) }) ∷ [])) s.NoBlock (s.Then 2 (s.Return ([]) ([]) ([])) s.NoBlock s.End)) ≡ (RefusedAt 1 2 3)
unfolding computing
conditions_21 = refl

conditions_22 : body_verdict (record { predicates = ([]); specs = ((record { is_void = false; name = name_f; params = (name_p ∷ []); vars = ((name_a, sort.Int) ∷ []); pre = (record { opened = []; facts = ((Rel relation.Le (Of2 binary.Sub (Number (pos 0)) (Number (pos 2147483648))) (Var 0 sort.Int)) ∷ (Rel relation.Le (Var 0 sort.Int) (Number (pos 0))) ∷ []); locals = ((name_p, (Of unary.Vi (Var 0 sort.Int))) ∷ []); items = ([]) }); post = (record { opened = []; facts = ([]); locals = []; items = ([]) }) }) ∷ []) }) (record { is_void = false; name = name_f; params = (name_p ∷ []); vars = ((name_a, sort.Int) ∷ []); pre = (record { opened = []; facts = ((Rel relation.Le (Of2 binary.Sub (Number (pos 0)) (Number (pos 2147483648))) (Var 0 sort.Int)) ∷ (Rel relation.Le (Var 0 sort.Int) (Number (pos 0))) ∷ []); locals = ((name_p, (Of unary.Vi (Var 0 sort.Int))) ∷ []); items = ([]) }); post = (record { opened = []; facts = ([]); locals = []; items = ([]) }) }) (record { temps = (name_p ∷ name_t ∷ []); body = (c.Then (c.Set 1 (c.Unary one.Minus kind.Signed (c.Temp 0))) (c.Then (c.Return (Some (c.Const 0))) c.End)) }) (s.Then 1 (s.Set ([]) ((record { lines = ((line.Comb (((pos 1), 0) ∷ ((pos 1), 2) ∷ [])) ∷ []) }) ∷ (record { lines = ((line.Comb (((pos 1), 1) ∷ ((pos 1), 2) ∷ [])) ∷ []) }) ∷ (record { lines = ((line.Comb (((pos 1), 0) ∷ ((pos 1), 2) ∷ [])) ∷ []) }) ∷ (record { lines = ((line.Comb (((pos 1), 1) ∷ ((pos 1), 2) ∷ [])) ∷ []) }) ∷ [])) s.NoBlock (s.Then 2 (s.Return ([]) ([]) ([])) s.NoBlock s.End)) ≡ (RefusedAt 1 2 3)
unfolding computing
conditions_22 = refl

conditions_23 : body_verdict (record { predicates = ([]); specs = ((record { is_void = false; name = name_f; params = (name_p ∷ name_q ∷ []); vars = ((name_a, sort.Int) ∷ (name_b, sort.Int) ∷ []); pre = (record { opened = []; facts = ((Rel relation.Le (Number (pos 0)) (Var 0 sort.Int)) ∷ (Rel relation.Le (Var 0 sort.Int) (Number (pos 9))) ∷ (Rel relation.Le (Number (pos 0)) (Var 1 sort.Int)) ∷ (Rel relation.Le (Var 1 sort.Int) (Number (pos 31))) ∷ []); locals = ((name_p, (Of unary.Vi (Var 0 sort.Int))) ∷ (name_q, (Of unary.Vi (Var 1 sort.Int))) ∷ []); items = ([]) }); post = (record { opened = []; facts = ([]); locals = []; items = ([]) }) }) ∷ []) }) (record { is_void = false; name = name_f; params = (name_p ∷ name_q ∷ []); vars = ((name_a, sort.Int) ∷ (name_b, sort.Int) ∷ []); pre = (record { opened = []; facts = ((Rel relation.Le (Number (pos 0)) (Var 0 sort.Int)) ∷ (Rel relation.Le (Var 0 sort.Int) (Number (pos 9))) ∷ (Rel relation.Le (Number (pos 0)) (Var 1 sort.Int)) ∷ (Rel relation.Le (Var 1 sort.Int) (Number (pos 31))) ∷ []); locals = ((name_p, (Of unary.Vi (Var 0 sort.Int))) ∷ (name_q, (Of unary.Vi (Var 1 sort.Int))) ∷ []); items = ([]) }); post = (record { opened = []; facts = ([]); locals = []; items = ([]) }) }) (record { temps = (name_p ∷ name_q ∷ name_t ∷ []); body = (c.Then (c.Set 2 (c.Binary two.Shl kind.Unsigned (c.Temp 0) (c.Temp 1))) (c.Then (c.Return (Some (c.Const 0))) c.End)) }) (s.Then 1 (s.Set ([]) ((record { lines = ((line.Comb (((pos 1), 1) ∷ ((pos 1), 4) ∷ [])) ∷ []) }) ∷ (record { lines = ((line.Comb (((pos 1), 3) ∷ ((pos 1), 4) ∷ [])) ∷ []) }) ∷ [])) s.NoBlock (s.Then 2 (s.Return ([]) ([]) ([])) s.NoBlock s.End)) ≡ (RefusedAt 1 2 3)
unfolding computing
conditions_23 = refl

conditions_24 : body_verdict (record { predicates = ([]); specs = ((record { is_void = false; name = name_f; params = (name_p ∷ []); vars = ((name_a, sort.Int) ∷ []); pre = (record { opened = []; facts = ((Rel relation.Le (Number (pos 0)) (Var 0 sort.Int)) ∷ (Rel relation.Le (Var 0 sort.Int) (Number (pos 9))) ∷ []); locals = ((name_p, (Of unary.Vi (Var 0 sort.Int))) ∷ []); items = ([]) }); post = (record { opened = []; facts = ([]); locals = []; items = ([]) }) }) ∷ []) }) (record { is_void = false; name = name_f; params = (name_p ∷ []); vars = ((name_a, sort.Int) ∷ []); pre = (record { opened = []; facts = ((Rel relation.Le (Number (pos 0)) (Var 0 sort.Int)) ∷ (Rel relation.Le (Var 0 sort.Int) (Number (pos 9))) ∷ []); locals = ((name_p, (Of unary.Vi (Var 0 sort.Int))) ∷ []); items = ([]) }); post = (record { opened = []; facts = ([]); locals = []; items = ([]) }) }) (record { temps = (name_p ∷ name_t ∷ []); body = (c.Then (c.Set 1 (c.Binary two.Shl kind.Unsigned (c.Temp 0) (c.Const 31))) (c.Then (c.Return (Some (c.Const 0))) c.End)) }) (s.Then 1 (s.Set ([]) ((record { lines = ((line.Comb (((pos 1), 1) ∷ ((pos 1), 2) ∷ [])) ∷ []) }) ∷ [])) s.NoBlock (s.Then 2 (s.Return ([]) ([]) ([])) s.NoBlock s.End)) ≡ Accepted
unfolding computing
conditions_24 = refl

conditions_25 : body_verdict (record { predicates = ([]); specs = ((record { is_void = false; name = name_f; params = (name_p ∷ name_q ∷ []); vars = ((name_a, sort.Int) ∷ (name_b, sort.Int) ∷ []); pre = (record { opened = []; facts = ((Rel relation.Le (Number (pos 0)) (Var 0 sort.Int)) ∷ (Rel relation.Le (Var 0 sort.Int) (Number (pos 9))) ∷ (Rel relation.Le (Number (pos 0)) (Var 1 sort.Int)) ∷ (Rel relation.Le (Var 1 sort.Int) (Number (pos 31))) ∷ []); locals = ((name_p, (Of unary.Vi (Var 0 sort.Int))) ∷ (name_q, (Of unary.Vi (Var 1 sort.Int))) ∷ []); items = ([]) }); post = (record { opened = []; facts = ([]); locals = []; items = ([]) }) }) ∷ []) }) (record { is_void = false; name = name_f; params = (name_p ∷ name_q ∷ []); vars = ((name_a, sort.Int) ∷ (name_b, sort.Int) ∷ []); pre = (record { opened = []; facts = ((Rel relation.Le (Number (pos 0)) (Var 0 sort.Int)) ∷ (Rel relation.Le (Var 0 sort.Int) (Number (pos 9))) ∷ (Rel relation.Le (Number (pos 0)) (Var 1 sort.Int)) ∷ (Rel relation.Le (Var 1 sort.Int) (Number (pos 31))) ∷ []); locals = ((name_p, (Of unary.Vi (Var 0 sort.Int))) ∷ (name_q, (Of unary.Vi (Var 1 sort.Int))) ∷ []); items = ([]) }); post = (record { opened = []; facts = ([]); locals = []; items = ([]) }) }) (record { temps = (name_p ∷ name_q ∷ name_t ∷ []); body = (c.Then (c.Set 2 (c.Binary two.Shr kind.Unsigned (c.Temp 0) (c.Temp 1))) (c.Then (c.Return (Some (c.Const 0))) c.End)) }) (s.Then 1 (s.Set ([]) ((record { lines = ((line.Comb (((pos 1), 1) ∷ ((pos 1), 4) ∷ [])) ∷ []) }) ∷ (record { lines = ((line.Comb (((pos 1), 3) ∷ ((pos 1), 4) ∷ [])) ∷ []) }) ∷ [])) s.NoBlock (s.Then 2 (s.Return ([]) ([]) ([])) s.NoBlock s.End)) ≡ (RefusedAt 1 2 3)
unfolding computing
conditions_25 = refl

conditions_26 : body_verdict (record { predicates = ([]); specs = ((record { is_void = false; name = name_f; params = (name_p ∷ []); vars = ((name_a, sort.Int) ∷ []); pre = (record { opened = []; facts = ((Rel relation.Le (Number (pos 0)) (Var 0 sort.Int)) ∷ (Rel relation.Le (Var 0 sort.Int) (Number (pos 9))) ∷ []); locals = ((name_p, (Of unary.Vi (Var 0 sort.Int))) ∷ []); items = ([]) }); post = (record { opened = []; facts = ([]); locals = []; items = ([]) }) }) ∷ []) }) (record { is_void = false; name = name_f; params = (name_p ∷ []); vars = ((name_a, sort.Int) ∷ []); pre = (record { opened = []; facts = ((Rel relation.Le (Number (pos 0)) (Var 0 sort.Int)) ∷ (Rel relation.Le (Var 0 sort.Int) (Number (pos 9))) ∷ []); locals = ((name_p, (Of unary.Vi (Var 0 sort.Int))) ∷ []); items = ([]) }); post = (record { opened = []; facts = ([]); locals = []; items = ([]) }) }) (record { temps = (name_p ∷ name_t ∷ []); body = (c.Then (c.Set 1 (c.Binary two.Shr kind.Unsigned (c.Temp 0) (c.Const 31))) (c.Then (c.Return (Some (c.Const 0))) c.End)) }) (s.Then 1 (s.Set ([]) ((record { lines = ((line.Comb (((pos 1), 1) ∷ ((pos 1), 2) ∷ [])) ∷ []) }) ∷ [])) s.NoBlock (s.Then 2 (s.Return ([]) ([]) ([])) s.NoBlock s.End)) ≡ Accepted
unfolding computing
conditions_26 = refl

conditions_27 : body_verdict (record { predicates = ([]); specs = ((record { is_void = false; name = name_f; params = (name_p ∷ name_q ∷ []); vars = ((name_a, sort.Int) ∷ (name_b, sort.Int) ∷ []); pre = (record { opened = []; facts = ((Rel relation.Le (Number (pos 0)) (Var 0 sort.Int)) ∷ (Rel relation.Le (Var 0 sort.Int) (Number (pos 9))) ∷ (Rel relation.Le (Number (pos 0)) (Var 1 sort.Int)) ∷ (Rel relation.Le (Var 1 sort.Int) (Number (pos 32))) ∷ []); locals = ((name_p, (Of unary.Vi (Var 0 sort.Int))) ∷ (name_q, (Of unary.Vi (Var 1 sort.Int))) ∷ []); items = ([]) }); post = (record { opened = []; facts = ([]); locals = []; items = ([]) }) }) ∷ []) }) (record { is_void = false; name = name_f; params = (name_p ∷ name_q ∷ []); vars = ((name_a, sort.Int) ∷ (name_b, sort.Int) ∷ []); pre = (record { opened = []; facts = ((Rel relation.Le (Number (pos 0)) (Var 0 sort.Int)) ∷ (Rel relation.Le (Var 0 sort.Int) (Number (pos 9))) ∷ (Rel relation.Le (Number (pos 0)) (Var 1 sort.Int)) ∷ (Rel relation.Le (Var 1 sort.Int) (Number (pos 32))) ∷ []); locals = ((name_p, (Of unary.Vi (Var 0 sort.Int))) ∷ (name_q, (Of unary.Vi (Var 1 sort.Int))) ∷ []); items = ([]) }); post = (record { opened = []; facts = ([]); locals = []; items = ([]) }) }) (record { temps = (name_p ∷ name_q ∷ name_t ∷ []); body = (c.Then (c.Set 2 (c.Binary two.Shl kind.Unsigned (c.Temp 0) (c.Temp 1))) (c.Then (c.Return (Some (c.Const 0))) c.End)) }) (s.Then 1 (s.Set ([]) ((record { lines = ((line.Comb (((pos 1), 1) ∷ ((pos 1), 4) ∷ [])) ∷ []) }) ∷ (record { lines = ((line.Comb (((pos 1), 3) ∷ ((pos 1), 4) ∷ [])) ∷ []) }) ∷ [])) s.NoBlock (s.Then 2 (s.Return ([]) ([]) ([])) s.NoBlock s.End)) ≡ (RefusedAt 1 2 3)
unfolding computing
conditions_27 = refl

conditions_28 : body_verdict (record { predicates = ([]); specs = ((record { is_void = false; name = name_f; params = (name_p ∷ []); vars = ((name_a, sort.Int) ∷ []); pre = (record { opened = []; facts = ((Rel relation.Le (Number (pos 0)) (Var 0 sort.Int)) ∷ (Rel relation.Le (Var 0 sort.Int) (Number (pos 9))) ∷ []); locals = ((name_p, (Of unary.Vi (Var 0 sort.Int))) ∷ []); items = ([]) }); post = (record { opened = []; facts = ([]); locals = []; items = ([]) }) }) ∷ []) }) (record { is_void = false; name = name_f; params = (name_p ∷ []); vars = ((name_a, sort.Int) ∷ []); pre = (record { opened = []; facts = ((Rel relation.Le (Number (pos 0)) (Var 0 sort.Int)) ∷ (Rel relation.Le (Var 0 sort.Int) (Number (pos 9))) ∷ []); locals = ((name_p, (Of unary.Vi (Var 0 sort.Int))) ∷ []); items = ([]) }); post = (record { opened = []; facts = ([]); locals = []; items = ([]) }) }) (record { temps = (name_p ∷ name_t ∷ []); body = (c.Then (c.Set 1 (c.Binary two.Shl kind.Unsigned (c.Temp 0) (c.Const 32))) (c.Then (c.Return (Some (c.Const 0))) c.End)) }) (s.Then 1 (s.Set ([]) ((record { lines = ((line.Comb (((pos 1), 1) ∷ ((pos 1), 2) ∷ [])) ∷ []) }) ∷ [])) s.NoBlock (s.Then 2 (s.Return ([]) ([]) ([])) s.NoBlock s.End)) ≡ (RefusedAt 1 2 3)
unfolding computing
conditions_28 = refl

conditions_29 : body_verdict (record { predicates = ([]); specs = ((record { is_void = false; name = name_f; params = (name_p ∷ name_q ∷ []); vars = ((name_a, sort.Int) ∷ (name_b, sort.Int) ∷ []); pre = (record { opened = []; facts = ((Rel relation.Le (Number (pos 0)) (Var 0 sort.Int)) ∷ (Rel relation.Le (Var 0 sort.Int) (Number (pos 9))) ∷ (Rel relation.Le (Number (pos 0)) (Var 1 sort.Int)) ∷ (Rel relation.Le (Var 1 sort.Int) (Number (pos 32))) ∷ []); locals = ((name_p, (Of unary.Vi (Var 0 sort.Int))) ∷ (name_q, (Of unary.Vi (Var 1 sort.Int))) ∷ []); items = ([]) }); post = (record { opened = []; facts = ([]); locals = []; items = ([]) }) }) ∷ []) }) (record { is_void = false; name = name_f; params = (name_p ∷ name_q ∷ []); vars = ((name_a, sort.Int) ∷ (name_b, sort.Int) ∷ []); pre = (record { opened = []; facts = ((Rel relation.Le (Number (pos 0)) (Var 0 sort.Int)) ∷ (Rel relation.Le (Var 0 sort.Int) (Number (pos 9))) ∷ (Rel relation.Le (Number (pos 0)) (Var 1 sort.Int)) ∷ (Rel relation.Le (Var 1 sort.Int) (Number (pos 32))) ∷ []); locals = ((name_p, (Of unary.Vi (Var 0 sort.Int))) ∷ (name_q, (Of unary.Vi (Var 1 sort.Int))) ∷ []); items = ([]) }); post = (record { opened = []; facts = ([]); locals = []; items = ([]) }) }) (record { temps = (name_p ∷ name_q ∷ name_t ∷ []); body = (c.Then (c.Set 2 (c.Binary two.Shr kind.Unsigned (c.Temp 0) (c.Temp 1))) (c.Then (c.Return (Some (c.Const 0))) c.End)) }) (s.Then 1 (s.Set ([]) ((record { lines = ((line.Comb (((pos 1), 1) ∷ ((pos 1), 4) ∷ [])) ∷ []) }) ∷ (record { lines = ((line.Comb (((pos 1), 3) ∷ ((pos 1), 4) ∷ [])) ∷ []) }) ∷ [])) s.NoBlock (s.Then 2 (s.Return ([]) ([]) ([])) s.NoBlock s.End)) ≡ (RefusedAt 1 2 3)
unfolding computing
conditions_29 = refl

conditions_30 : body_verdict (record { predicates = ([]); specs = ((record { is_void = false; name = name_f; params = (name_p ∷ []); vars = ((name_a, sort.Int) ∷ []); pre = (record { opened = []; facts = ((Rel relation.Le (Number (pos 0)) (Var 0 sort.Int)) ∷ (Rel relation.Le (Var 0 sort.Int) (Number (pos 9))) ∷ []); locals = ((name_p, (Of unary.Vi (Var 0 sort.Int))) ∷ []); items = ([]) }); post = (record { opened = []; facts = ([]); locals = []; items = ([]) }) }) ∷ []) }) (record { is_void = false; name = name_f; params = (name_p ∷ []); vars = ((name_a, sort.Int) ∷ []); pre = (record { opened = []; facts = ((Rel relation.Le (Number (pos 0)) (Var 0 sort.Int)) ∷ (Rel relation.Le (Var 0 sort.Int) (Number (pos 9))) ∷ []); locals = ((name_p, (Of unary.Vi (Var 0 sort.Int))) ∷ []); items = ([]) }); post = (record { opened = []; facts = ([]); locals = []; items = ([]) }) }) (record { temps = (name_p ∷ name_t ∷ []); body = (c.Then (c.Set 1 (c.Binary two.Shr kind.Unsigned (c.Temp 0) (c.Const 32))) (c.Then (c.Return (Some (c.Const 0))) c.End)) }) (s.Then 1 (s.Set ([]) ((record { lines = ((line.Comb (((pos 1), 1) ∷ ((pos 1), 2) ∷ [])) ∷ []) }) ∷ [])) s.NoBlock (s.Then 2 (s.Return ([]) ([]) ([])) s.NoBlock s.End)) ≡ (RefusedAt 1 2 3)
unfolding computing
conditions_30 = refl

conditions_31 : body_verdict (record { predicates = ([]); specs = ((record { is_void = false; name = name_f; params = (name_p ∷ name_q ∷ []); vars = ((name_a, sort.Int) ∷ (name_b, sort.Int) ∷ []); pre = (record { opened = []; facts = ((Rel relation.Le (Number (pos 0)) (Var 0 sort.Int)) ∷ (Rel relation.Le (Var 0 sort.Int) (Number (pos 9))) ∷ (Rel relation.Le (Number (pos 0)) (Var 1 sort.Int)) ∷ (Rel relation.Le (Var 1 sort.Int) (Number (pos 9))) ∷ []); locals = ((name_p, (Of unary.Vi (Var 0 sort.Int))) ∷ (name_q, (Of unary.Vi (Var 1 sort.Int))) ∷ []); items = ([]) }); post = (record { opened = []; facts = ([]); locals = []; items = ([]) }) }) ∷ []) }) (record { is_void = false; name = name_f; params = (name_p ∷ name_q ∷ []); vars = ((name_a, sort.Int) ∷ (name_b, sort.Int) ∷ []); pre = (record { opened = []; facts = ((Rel relation.Le (Number (pos 0)) (Var 0 sort.Int)) ∷ (Rel relation.Le (Var 0 sort.Int) (Number (pos 9))) ∷ (Rel relation.Le (Number (pos 0)) (Var 1 sort.Int)) ∷ (Rel relation.Le (Var 1 sort.Int) (Number (pos 9))) ∷ []); locals = ((name_p, (Of unary.Vi (Var 0 sort.Int))) ∷ (name_q, (Of unary.Vi (Var 1 sort.Int))) ∷ []); items = ([]) }); post = (record { opened = []; facts = ([]); locals = []; items = ([]) }) }) (record { temps = (name_p ∷ name_q ∷ name_t ∷ []); body = (c.Then (c.Set 2 (c.Binary two.Div kind.Unsigned (c.Temp 0) (c.Temp 1))) (c.Then (c.Return (Some (c.Const 0))) c.End)) }) (s.Then 1 (s.Set ([]) ((record { lines = ((line.Comb (((pos 1), 1) ∷ ((pos 1), 4) ∷ [])) ∷ []) }) ∷ (record { lines = ((line.Comb (((pos 1), 2) ∷ ((pos 1), 4) ∷ [])) ∷ []) }) ∷ (record { lines = ((line.Comb (((pos 1), 3) ∷ ((pos 1), 4) ∷ [])) ∷ []) }) ∷ [])) s.NoBlock (s.Then 2 (s.Return ([]) ([]) ([])) s.NoBlock s.End)) ≡ (RefusedAt 1 2 3)
unfolding computing
conditions_31 = refl

conditions_32 : body_verdict (record { predicates = ([]); specs = ((record { is_void = false; name = name_f; params = (name_p ∷ name_q ∷ []); vars = ((name_a, sort.Int) ∷ (name_b, sort.Int) ∷ []); pre = (record { opened = []; facts = ((Rel relation.Le (Number (pos 0)) (Var 0 sort.Int)) ∷ (Rel relation.Le (Var 0 sort.Int) (Number (pos 9))) ∷ (Rel relation.Le (Number (pos 0)) (Var 1 sort.Int)) ∷ (Rel relation.Le (Var 1 sort.Int) (Number (pos 9))) ∷ []); locals = ((name_p, (Of unary.Vi (Var 0 sort.Int))) ∷ (name_q, (Of unary.Vi (Var 1 sort.Int))) ∷ []); items = ([]) }); post = (record { opened = []; facts = ([]); locals = []; items = ([]) }) }) ∷ []) }) (record { is_void = false; name = name_f; params = (name_p ∷ name_q ∷ []); vars = ((name_a, sort.Int) ∷ (name_b, sort.Int) ∷ []); pre = (record { opened = []; facts = ((Rel relation.Le (Number (pos 0)) (Var 0 sort.Int)) ∷ (Rel relation.Le (Var 0 sort.Int) (Number (pos 9))) ∷ (Rel relation.Le (Number (pos 0)) (Var 1 sort.Int)) ∷ (Rel relation.Le (Var 1 sort.Int) (Number (pos 9))) ∷ []); locals = ((name_p, (Of unary.Vi (Var 0 sort.Int))) ∷ (name_q, (Of unary.Vi (Var 1 sort.Int))) ∷ []); items = ([]) }); post = (record { opened = []; facts = ([]); locals = []; items = ([]) }) }) (record { temps = (name_p ∷ name_q ∷ name_t ∷ []); body = (c.Then (c.Set 2 (c.Binary two.Div kind.Unsigned (c.Temp 0) (c.Temp 1))) (c.Then (c.Return (Some (c.Const 0))) c.End)) }) (s.Then 1 (s.Set ([]) ((record { lines = ((line.Comb (((pos 1), 1) ∷ ((pos 1), 4) ∷ [])) ∷ []) }) ∷ (record { lines = ((line.Comb (((pos 1), 2) ∷ ((pos 1), 4) ∷ [])) ∷ []) }) ∷ (record { lines = ((line.Comb (((pos 1), 3) ∷ ((pos 1), 4) ∷ [])) ∷ []) }) ∷ (record { lines = ((line.Comb (((pos 1), 2) ∷ ((pos 1), 4) ∷ [])) ∷ []) }) ∷ [])) s.NoBlock (s.Then 2 (s.Return ([]) ([]) ([])) s.NoBlock s.End)) ≡ (RefusedAt 1 2 3)
unfolding computing
conditions_32 = refl

conditions_33 : body_verdict (record { predicates = ([]); specs = ((record { is_void = false; name = name_f; params = (name_p ∷ name_q ∷ []); vars = ((name_a, sort.Int) ∷ (name_b, sort.Int) ∷ []); pre = (record { opened = []; facts = ((Rel relation.Le (Number (pos 0)) (Var 0 sort.Int)) ∷ (Rel relation.Le (Var 0 sort.Int) (Number (pos 9))) ∷ (Rel relation.Le (Number (pos 0)) (Var 1 sort.Int)) ∷ (Rel relation.Le (Var 1 sort.Int) (Number (pos 9))) ∷ []); locals = ((name_p, (Of unary.Vi (Var 0 sort.Int))) ∷ (name_q, (Of unary.Vi (Var 1 sort.Int))) ∷ []); items = ([]) }); post = (record { opened = []; facts = ([]); locals = []; items = ([]) }) }) ∷ []) }) (record { is_void = false; name = name_f; params = (name_p ∷ name_q ∷ []); vars = ((name_a, sort.Int) ∷ (name_b, sort.Int) ∷ []); pre = (record { opened = []; facts = ((Rel relation.Le (Number (pos 0)) (Var 0 sort.Int)) ∷ (Rel relation.Le (Var 0 sort.Int) (Number (pos 9))) ∷ (Rel relation.Le (Number (pos 0)) (Var 1 sort.Int)) ∷ (Rel relation.Le (Var 1 sort.Int) (Number (pos 9))) ∷ []); locals = ((name_p, (Of unary.Vi (Var 0 sort.Int))) ∷ (name_q, (Of unary.Vi (Var 1 sort.Int))) ∷ []); items = ([]) }); post = (record { opened = []; facts = ([]); locals = []; items = ([]) }) }) (record { temps = (name_p ∷ name_q ∷ name_t ∷ []); body = (c.Then (c.Set 2 (c.Binary two.Div kind.Signed (c.Temp 0) (c.Temp 1))) (c.Then (c.Return (Some (c.Const 0))) c.End)) }) (s.Then 1 (s.Set ([]) ((record { lines = ((line.Comb (((pos 1), 0) ∷ ((pos 1), 4) ∷ [])) ∷ []) }) ∷ (record { lines = ((line.Comb (((pos 1), 1) ∷ ((pos 1), 4) ∷ [])) ∷ []) }) ∷ (record { lines = ((line.Comb (((pos 1), 2) ∷ ((pos 1), 4) ∷ [])) ∷ []) }) ∷ (record { lines = ((line.Comb (((pos 1), 3) ∷ ((pos 1), 4) ∷ [])) ∷ []) }) ∷ (record { lines = ((line.Comb (((pos 1), 2) ∷ ((pos 1), 4) ∷ [])) ∷ []) }) ∷ (record { lines = ((line.Comb (((pos 1), 2) ∷ ((pos 1), 4) ∷ [])) ∷ []) }) ∷ [])) s.NoBlock (s.Then 2 (s.Return ([]) ([]) ([])) s.NoBlock s.End)) ≡ (RefusedAt 1 2 3)
unfolding computing
conditions_33 = refl

conditions_34 : body_verdict (record { predicates = ([]); specs = ((record { is_void = false; name = name_f; params = (name_p ∷ name_q ∷ []); vars = ((name_a, sort.Int) ∷ (name_b, sort.Int) ∷ []); pre = (record { opened = []; facts = ((Rel relation.Le (Number (pos 0)) (Var 0 sort.Int)) ∷ (Rel relation.Le (Var 0 sort.Int) (Number (pos 9))) ∷ (Rel relation.Le (Number (pos 0)) (Var 1 sort.Int)) ∷ (Rel relation.Le (Var 1 sort.Int) (Number (pos 9))) ∷ []); locals = ((name_p, (Of unary.Vi (Var 0 sort.Int))) ∷ (name_q, (Of unary.Vi (Var 1 sort.Int))) ∷ []); items = ([]) }); post = (record { opened = []; facts = ([]); locals = []; items = ([]) }) }) ∷ []) }) (record { is_void = false; name = name_f; params = (name_p ∷ name_q ∷ []); vars = ((name_a, sort.Int) ∷ (name_b, sort.Int) ∷ []); pre = (record { opened = []; facts = ((Rel relation.Le (Number (pos 0)) (Var 0 sort.Int)) ∷ (Rel relation.Le (Var 0 sort.Int) (Number (pos 9))) ∷ (Rel relation.Le (Number (pos 0)) (Var 1 sort.Int)) ∷ (Rel relation.Le (Var 1 sort.Int) (Number (pos 9))) ∷ []); locals = ((name_p, (Of unary.Vi (Var 0 sort.Int))) ∷ (name_q, (Of unary.Vi (Var 1 sort.Int))) ∷ []); items = ([]) }); post = (record { opened = []; facts = ([]); locals = []; items = ([]) }) }) (record { temps = (name_p ∷ name_q ∷ name_t ∷ []); body = (c.Then (c.Set 2 (c.Binary two.Rem kind.Unsigned (c.Temp 0) (c.Temp 1))) (c.Then (c.Return (Some (c.Const 0))) c.End)) }) (s.Then 1 (s.Set ([]) ((record { lines = ((line.Comb (((pos 1), 1) ∷ ((pos 1), 4) ∷ [])) ∷ []) }) ∷ (record { lines = ((line.Comb (((pos 1), 2) ∷ ((pos 1), 4) ∷ [])) ∷ []) }) ∷ (record { lines = ((line.Comb (((pos 1), 3) ∷ ((pos 1), 4) ∷ [])) ∷ []) }) ∷ [])) s.NoBlock (s.Then 2 (s.Return ([]) ([]) ([])) s.NoBlock s.End)) ≡ (RefusedAt 1 2 3)
unfolding computing
conditions_34 = refl

conditions_35 : body_verdict (record { predicates = ([]); specs = ((record { is_void = false; name = name_f; params = (name_p ∷ name_q ∷ []); vars = ((name_a, sort.Int) ∷ (name_b, sort.Int) ∷ []); pre = (record { opened = []; facts = ((Rel relation.Le (Number (pos 0)) (Var 0 sort.Int)) ∷ (Rel relation.Le (Var 0 sort.Int) (Number (pos 9))) ∷ (Rel relation.Le (Number (pos 0)) (Var 1 sort.Int)) ∷ (Rel relation.Le (Var 1 sort.Int) (Number (pos 9))) ∷ []); locals = ((name_p, (Of unary.Vi (Var 0 sort.Int))) ∷ (name_q, (Of unary.Vi (Var 1 sort.Int))) ∷ []); items = ([]) }); post = (record { opened = []; facts = ([]); locals = []; items = ([]) }) }) ∷ []) }) (record { is_void = false; name = name_f; params = (name_p ∷ name_q ∷ []); vars = ((name_a, sort.Int) ∷ (name_b, sort.Int) ∷ []); pre = (record { opened = []; facts = ((Rel relation.Le (Number (pos 0)) (Var 0 sort.Int)) ∷ (Rel relation.Le (Var 0 sort.Int) (Number (pos 9))) ∷ (Rel relation.Le (Number (pos 0)) (Var 1 sort.Int)) ∷ (Rel relation.Le (Var 1 sort.Int) (Number (pos 9))) ∷ []); locals = ((name_p, (Of unary.Vi (Var 0 sort.Int))) ∷ (name_q, (Of unary.Vi (Var 1 sort.Int))) ∷ []); items = ([]) }); post = (record { opened = []; facts = ([]); locals = []; items = ([]) }) }) (record { temps = (name_p ∷ name_q ∷ name_t ∷ []); body = (c.Then (c.Set 2 (c.Binary two.Rem kind.Unsigned (c.Temp 0) (c.Temp 1))) (c.Then (c.Return (Some (c.Const 0))) c.End)) }) (s.Then 1 (s.Set ([]) ((record { lines = ((line.Comb (((pos 1), 1) ∷ ((pos 1), 4) ∷ [])) ∷ []) }) ∷ (record { lines = ((line.Comb (((pos 1), 2) ∷ ((pos 1), 4) ∷ [])) ∷ []) }) ∷ (record { lines = ((line.Comb (((pos 1), 3) ∷ ((pos 1), 4) ∷ [])) ∷ []) }) ∷ (record { lines = ((line.Comb (((pos 1), 2) ∷ ((pos 1), 4) ∷ [])) ∷ []) }) ∷ [])) s.NoBlock (s.Then 2 (s.Return ([]) ([]) ([])) s.NoBlock s.End)) ≡ (RefusedAt 1 2 3)
unfolding computing
conditions_35 = refl

conditions_36 : body_verdict (record { predicates = ([]); specs = ((record { is_void = false; name = name_f; params = (name_p ∷ name_q ∷ []); vars = ((name_a, sort.Int) ∷ (name_b, sort.Int) ∷ []); pre = (record { opened = []; facts = ((Rel relation.Le (Number (pos 0)) (Var 0 sort.Int)) ∷ (Rel relation.Le (Var 0 sort.Int) (Number (pos 9))) ∷ (Rel relation.Le (Number (pos 0)) (Var 1 sort.Int)) ∷ (Rel relation.Le (Var 1 sort.Int) (Number (pos 9))) ∷ []); locals = ((name_p, (Of unary.Vi (Var 0 sort.Int))) ∷ (name_q, (Of unary.Vi (Var 1 sort.Int))) ∷ []); items = ([]) }); post = (record { opened = []; facts = ([]); locals = []; items = ([]) }) }) ∷ []) }) (record { is_void = false; name = name_f; params = (name_p ∷ name_q ∷ []); vars = ((name_a, sort.Int) ∷ (name_b, sort.Int) ∷ []); pre = (record { opened = []; facts = ((Rel relation.Le (Number (pos 0)) (Var 0 sort.Int)) ∷ (Rel relation.Le (Var 0 sort.Int) (Number (pos 9))) ∷ (Rel relation.Le (Number (pos 0)) (Var 1 sort.Int)) ∷ (Rel relation.Le (Var 1 sort.Int) (Number (pos 9))) ∷ []); locals = ((name_p, (Of unary.Vi (Var 0 sort.Int))) ∷ (name_q, (Of unary.Vi (Var 1 sort.Int))) ∷ []); items = ([]) }); post = (record { opened = []; facts = ([]); locals = []; items = ([]) }) }) (record { temps = (name_p ∷ name_q ∷ name_t ∷ []); body = (c.Then (c.Set 2 (c.Binary two.Rem kind.Signed (c.Temp 0) (c.Temp 1))) (c.Then (c.Return (Some (c.Const 0))) c.End)) }) (s.Then 1 (s.Set ([]) ((record { lines = ((line.Comb (((pos 1), 0) ∷ ((pos 1), 4) ∷ [])) ∷ []) }) ∷ (record { lines = ((line.Comb (((pos 1), 1) ∷ ((pos 1), 4) ∷ [])) ∷ []) }) ∷ (record { lines = ((line.Comb (((pos 1), 2) ∷ ((pos 1), 4) ∷ [])) ∷ []) }) ∷ (record { lines = ((line.Comb (((pos 1), 3) ∷ ((pos 1), 4) ∷ [])) ∷ []) }) ∷ (record { lines = ((line.Comb (((pos 1), 2) ∷ ((pos 1), 4) ∷ [])) ∷ []) }) ∷ (record { lines = ((line.Comb (((pos 1), 2) ∷ ((pos 1), 4) ∷ [])) ∷ []) }) ∷ [])) s.NoBlock (s.Then 2 (s.Return ([]) ([]) ([])) s.NoBlock s.End)) ≡ (RefusedAt 1 2 3)
unfolding computing
conditions_36 = refl

conditions_37 : body_verdict (record { predicates = ([]); specs = ((record { is_void = false; name = name_f; params = (name_p ∷ name_q ∷ []); vars = ((name_a, sort.Int) ∷ (name_b, sort.Int) ∷ []); pre = (record { opened = []; facts = ((Rel relation.Le (Number (pos 0)) (Var 0 sort.Int)) ∷ (Rel relation.Le (Var 0 sort.Int) (Number (pos 9))) ∷ (Rel relation.Le (Number (pos 1)) (Var 1 sort.Int)) ∷ (Rel relation.Le (Var 1 sort.Int) (Number (pos 9))) ∷ []); locals = ((name_p, (Of unary.Vi (Var 0 sort.Int))) ∷ (name_q, (Of unary.Vi (Var 1 sort.Int))) ∷ []); items = ([]) }); post = (record { opened = []; facts = ([]); locals = []; items = ([]) }) }) ∷ []) }) (record { is_void = false; name = name_f; params = (name_p ∷ name_q ∷ []); vars = ((name_a, sort.Int) ∷ (name_b, sort.Int) ∷ []); pre = (record { opened = []; facts = ((Rel relation.Le (Number (pos 0)) (Var 0 sort.Int)) ∷ (Rel relation.Le (Var 0 sort.Int) (Number (pos 9))) ∷ (Rel relation.Le (Number (pos 1)) (Var 1 sort.Int)) ∷ (Rel relation.Le (Var 1 sort.Int) (Number (pos 9))) ∷ []); locals = ((name_p, (Of unary.Vi (Var 0 sort.Int))) ∷ (name_q, (Of unary.Vi (Var 1 sort.Int))) ∷ []); items = ([]) }); post = (record { opened = []; facts = ([]); locals = []; items = ([]) }) }) (record { temps = (name_p ∷ name_q ∷ name_t ∷ []); body = (c.Then (c.Set 2 (c.Binary two.Div kind.Unsigned (c.Temp 0) (c.Temp 1))) (c.Then (c.Return (Some (c.Const 0))) c.End)) }) (s.Then 1 (s.Set ([]) ((record { lines = ((line.Comb (((pos 1), 1) ∷ ((pos 1), 4) ∷ [])) ∷ []) }) ∷ (record { lines = ((line.Comb (((pos 1), 2) ∷ ((pos 1), 4) ∷ [])) ∷ []) }) ∷ (record { lines = ((line.Comb (((pos 1), 3) ∷ ((pos 1), 4) ∷ [])) ∷ []) }) ∷ [])) s.NoBlock (s.Then 2 (s.Return ([]) ([]) ([])) s.NoBlock s.End)) ≡ Accepted
unfolding computing
conditions_37 = refl

conditions_38 : body_verdict (record { predicates = ([]); specs = ((record { is_void = false; name = name_f; params = (name_p ∷ name_q ∷ []); vars = ((name_a, sort.Int) ∷ (name_b, sort.Int) ∷ []); pre = (record { opened = []; facts = ((Rel relation.Le (Number (pos 0)) (Var 0 sort.Int)) ∷ (Rel relation.Le (Var 0 sort.Int) (Number (pos 9))) ∷ (Rel relation.Le (Number (pos 1)) (Var 1 sort.Int)) ∷ (Rel relation.Le (Var 1 sort.Int) (Number (pos 9))) ∷ []); locals = ((name_p, (Of unary.Vi (Var 0 sort.Int))) ∷ (name_q, (Of unary.Vi (Var 1 sort.Int))) ∷ []); items = ([]) }); post = (record { opened = []; facts = ([]); locals = []; items = ([]) }) }) ∷ []) }) (record { is_void = false; name = name_f; params = (name_p ∷ name_q ∷ []); vars = ((name_a, sort.Int) ∷ (name_b, sort.Int) ∷ []); pre = (record { opened = []; facts = ((Rel relation.Le (Number (pos 0)) (Var 0 sort.Int)) ∷ (Rel relation.Le (Var 0 sort.Int) (Number (pos 9))) ∷ (Rel relation.Le (Number (pos 1)) (Var 1 sort.Int)) ∷ (Rel relation.Le (Var 1 sort.Int) (Number (pos 9))) ∷ []); locals = ((name_p, (Of unary.Vi (Var 0 sort.Int))) ∷ (name_q, (Of unary.Vi (Var 1 sort.Int))) ∷ []); items = ([]) }); post = (record { opened = []; facts = ([]); locals = []; items = ([]) }) }) (record { temps = (name_p ∷ name_q ∷ name_t ∷ []); body = (c.Then (c.Set 2 (c.Binary two.Div kind.Unsigned (c.Temp 0) (c.Temp 1))) (c.Then (c.Return (Some (c.Const 0))) c.End)) }) (s.Then 1 (s.Set ([]) ((record { lines = ((line.Comb (((pos 1), 1) ∷ ((pos 1), 4) ∷ [])) ∷ []) }) ∷ (record { lines = ((line.Comb (((pos 1), 2) ∷ ((pos 1), 4) ∷ [])) ∷ []) }) ∷ (record { lines = ((line.Comb (((pos 1), 3) ∷ ((pos 1), 4) ∷ [])) ∷ []) }) ∷ (record { lines = ((line.Comb (((pos 1), 2) ∷ ((pos 1), 4) ∷ [])) ∷ []) }) ∷ [])) s.NoBlock (s.Then 2 (s.Return ([]) ([]) ([])) s.NoBlock s.End)) ≡ (RefusedAt 1 2 3)
unfolding computing
conditions_38 = refl

conditions_39 : body_verdict (record { predicates = ([]); specs = ((record { is_void = false; name = name_f; params = (name_p ∷ name_q ∷ []); vars = ((name_a, sort.Int) ∷ (name_b, sort.Int) ∷ []); pre = (record { opened = []; facts = ((Rel relation.Le (Number (pos 0)) (Var 0 sort.Int)) ∷ (Rel relation.Le (Var 0 sort.Int) (Number (pos 9))) ∷ (Rel relation.Le (Number (pos 1)) (Var 1 sort.Int)) ∷ (Rel relation.Le (Var 1 sort.Int) (Number (pos 9))) ∷ []); locals = ((name_p, (Of unary.Vi (Var 0 sort.Int))) ∷ (name_q, (Of unary.Vi (Var 1 sort.Int))) ∷ []); items = ([]) }); post = (record { opened = []; facts = ([]); locals = []; items = ([]) }) }) ∷ []) }) (record { is_void = false; name = name_f; params = (name_p ∷ name_q ∷ []); vars = ((name_a, sort.Int) ∷ (name_b, sort.Int) ∷ []); pre = (record { opened = []; facts = ((Rel relation.Le (Number (pos 0)) (Var 0 sort.Int)) ∷ (Rel relation.Le (Var 0 sort.Int) (Number (pos 9))) ∷ (Rel relation.Le (Number (pos 1)) (Var 1 sort.Int)) ∷ (Rel relation.Le (Var 1 sort.Int) (Number (pos 9))) ∷ []); locals = ((name_p, (Of unary.Vi (Var 0 sort.Int))) ∷ (name_q, (Of unary.Vi (Var 1 sort.Int))) ∷ []); items = ([]) }); post = (record { opened = []; facts = ([]); locals = []; items = ([]) }) }) (record { temps = (name_p ∷ name_q ∷ name_t ∷ []); body = (c.Then (c.Set 2 (c.Binary two.Div kind.Signed (c.Temp 0) (c.Temp 1))) (c.Then (c.Return (Some (c.Const 0))) c.End)) }) (s.Then 1 (s.Set ([]) ((record { lines = ((line.Comb (((pos 1), 0) ∷ ((pos 1), 4) ∷ [])) ∷ []) }) ∷ (record { lines = ((line.Comb (((pos 1), 1) ∷ ((pos 1), 4) ∷ [])) ∷ []) }) ∷ (record { lines = ((line.Comb (((pos 1), 2) ∷ ((pos 1), 4) ∷ [])) ∷ []) }) ∷ (record { lines = ((line.Comb (((pos 1), 3) ∷ ((pos 1), 4) ∷ [])) ∷ []) }) ∷ (record { lines = ((line.Comb (((pos 1), 2) ∷ ((pos 1), 4) ∷ [])) ∷ []) }) ∷ (record { lines = ((line.Comb (((pos 1), 2) ∷ ((pos 1), 4) ∷ [])) ∷ []) }) ∷ [])) s.NoBlock (s.Then 2 (s.Return ([]) ([]) ([])) s.NoBlock s.End)) ≡ Accepted
unfolding computing
conditions_39 = refl

conditions_40 : body_verdict (record { predicates = ([]); specs = ((record { is_void = false; name = name_f; params = (name_p ∷ name_q ∷ []); vars = ((name_a, sort.Int) ∷ (name_b, sort.Int) ∷ []); pre = (record { opened = []; facts = ((Rel relation.Le (Number (pos 0)) (Var 0 sort.Int)) ∷ (Rel relation.Le (Var 0 sort.Int) (Number (pos 9))) ∷ (Rel relation.Le (Number (pos 1)) (Var 1 sort.Int)) ∷ (Rel relation.Le (Var 1 sort.Int) (Number (pos 9))) ∷ []); locals = ((name_p, (Of unary.Vi (Var 0 sort.Int))) ∷ (name_q, (Of unary.Vi (Var 1 sort.Int))) ∷ []); items = ([]) }); post = (record { opened = []; facts = ([]); locals = []; items = ([]) }) }) ∷ []) }) (record { is_void = false; name = name_f; params = (name_p ∷ name_q ∷ []); vars = ((name_a, sort.Int) ∷ (name_b, sort.Int) ∷ []); pre = (record { opened = []; facts = ((Rel relation.Le (Number (pos 0)) (Var 0 sort.Int)) ∷ (Rel relation.Le (Var 0 sort.Int) (Number (pos 9))) ∷ (Rel relation.Le (Number (pos 1)) (Var 1 sort.Int)) ∷ (Rel relation.Le (Var 1 sort.Int) (Number (pos 9))) ∷ []); locals = ((name_p, (Of unary.Vi (Var 0 sort.Int))) ∷ (name_q, (Of unary.Vi (Var 1 sort.Int))) ∷ []); items = ([]) }); post = (record { opened = []; facts = ([]); locals = []; items = ([]) }) }) (record { temps = (name_p ∷ name_q ∷ name_t ∷ []); body = (c.Then (c.Set 2 (c.Binary two.Rem kind.Unsigned (c.Temp 0) (c.Temp 1))) (c.Then (c.Return (Some (c.Const 0))) c.End)) }) (s.Then 1 (s.Set ([]) ((record { lines = ((line.Comb (((pos 1), 1) ∷ ((pos 1), 4) ∷ [])) ∷ []) }) ∷ (record { lines = ((line.Comb (((pos 1), 2) ∷ ((pos 1), 4) ∷ [])) ∷ []) }) ∷ (record { lines = ((line.Comb (((pos 1), 3) ∷ ((pos 1), 4) ∷ [])) ∷ []) }) ∷ [])) s.NoBlock (s.Then 2 (s.Return ([]) ([]) ([])) s.NoBlock s.End)) ≡ Accepted
unfolding computing
conditions_40 = refl

conditions_41 : body_verdict (record { predicates = ([]); specs = ((record { is_void = false; name = name_f; params = (name_p ∷ name_q ∷ []); vars = ((name_a, sort.Int) ∷ (name_b, sort.Int) ∷ []); pre = (record { opened = []; facts = ((Rel relation.Le (Number (pos 0)) (Var 0 sort.Int)) ∷ (Rel relation.Le (Var 0 sort.Int) (Number (pos 9))) ∷ (Rel relation.Le (Number (pos 1)) (Var 1 sort.Int)) ∷ (Rel relation.Le (Var 1 sort.Int) (Number (pos 9))) ∷ []); locals = ((name_p, (Of unary.Vi (Var 0 sort.Int))) ∷ (name_q, (Of unary.Vi (Var 1 sort.Int))) ∷ []); items = ([]) }); post = (record { opened = []; facts = ([]); locals = []; items = ([]) }) }) ∷ []) }) (record { is_void = false; name = name_f; params = (name_p ∷ name_q ∷ []); vars = ((name_a, sort.Int) ∷ (name_b, sort.Int) ∷ []); pre = (record { opened = []; facts = ((Rel relation.Le (Number (pos 0)) (Var 0 sort.Int)) ∷ (Rel relation.Le (Var 0 sort.Int) (Number (pos 9))) ∷ (Rel relation.Le (Number (pos 1)) (Var 1 sort.Int)) ∷ (Rel relation.Le (Var 1 sort.Int) (Number (pos 9))) ∷ []); locals = ((name_p, (Of unary.Vi (Var 0 sort.Int))) ∷ (name_q, (Of unary.Vi (Var 1 sort.Int))) ∷ []); items = ([]) }); post = (record { opened = []; facts = ([]); locals = []; items = ([]) }) }) (record { temps = (name_p ∷ name_q ∷ name_t ∷ []); body = (c.Then (c.Set 2 (c.Binary two.Rem kind.Unsigned (c.Temp 0) (c.Temp 1))) (c.Then (c.Return (Some (c.Const 0))) c.End)) }) (s.Then 1 (s.Set ([]) ((record { lines = ((line.Comb (((pos 1), 1) ∷ ((pos 1), 4) ∷ [])) ∷ []) }) ∷ (record { lines = ((line.Comb (((pos 1), 2) ∷ ((pos 1), 4) ∷ [])) ∷ []) }) ∷ (record { lines = ((line.Comb (((pos 1), 3) ∷ ((pos 1), 4) ∷ [])) ∷ []) }) ∷ (record { lines = ((line.Comb (((pos 1), 2) ∷ ((pos 1), 4) ∷ [])) ∷ []) }) ∷ [])) s.NoBlock (s.Then 2 (s.Return ([]) ([]) ([])) s.NoBlock s.End)) ≡ (RefusedAt 1 2 3)
unfolding computing
conditions_41 = refl

conditions_42 : body_verdict (record { predicates = ([]); specs = ((record { is_void = false; name = name_f; params = (name_p ∷ name_q ∷ []); vars = ((name_a, sort.Int) ∷ (name_b, sort.Int) ∷ []); pre = (record { opened = []; facts = ((Rel relation.Le (Number (pos 0)) (Var 0 sort.Int)) ∷ (Rel relation.Le (Var 0 sort.Int) (Number (pos 9))) ∷ (Rel relation.Le (Number (pos 1)) (Var 1 sort.Int)) ∷ (Rel relation.Le (Var 1 sort.Int) (Number (pos 9))) ∷ []); locals = ((name_p, (Of unary.Vi (Var 0 sort.Int))) ∷ (name_q, (Of unary.Vi (Var 1 sort.Int))) ∷ []); items = ([]) }); post = (record { opened = []; facts = ([]); locals = []; items = ([]) }) }) ∷ []) }) (record { is_void = false; name = name_f; params = (name_p ∷ name_q ∷ []); vars = ((name_a, sort.Int) ∷ (name_b, sort.Int) ∷ []); pre = (record { opened = []; facts = ((Rel relation.Le (Number (pos 0)) (Var 0 sort.Int)) ∷ (Rel relation.Le (Var 0 sort.Int) (Number (pos 9))) ∷ (Rel relation.Le (Number (pos 1)) (Var 1 sort.Int)) ∷ (Rel relation.Le (Var 1 sort.Int) (Number (pos 9))) ∷ []); locals = ((name_p, (Of unary.Vi (Var 0 sort.Int))) ∷ (name_q, (Of unary.Vi (Var 1 sort.Int))) ∷ []); items = ([]) }); post = (record { opened = []; facts = ([]); locals = []; items = ([]) }) }) (record { temps = (name_p ∷ name_q ∷ name_t ∷ []); body = (c.Then (c.Set 2 (c.Binary two.Rem kind.Signed (c.Temp 0) (c.Temp 1))) (c.Then (c.Return (Some (c.Const 0))) c.End)) }) (s.Then 1 (s.Set ([]) ((record { lines = ((line.Comb (((pos 1), 0) ∷ ((pos 1), 4) ∷ [])) ∷ []) }) ∷ (record { lines = ((line.Comb (((pos 1), 1) ∷ ((pos 1), 4) ∷ [])) ∷ []) }) ∷ (record { lines = ((line.Comb (((pos 1), 2) ∷ ((pos 1), 4) ∷ [])) ∷ []) }) ∷ (record { lines = ((line.Comb (((pos 1), 3) ∷ ((pos 1), 4) ∷ [])) ∷ []) }) ∷ (record { lines = ((line.Comb (((pos 1), 2) ∷ ((pos 1), 4) ∷ [])) ∷ []) }) ∷ (record { lines = ((line.Comb (((pos 1), 2) ∷ ((pos 1), 4) ∷ [])) ∷ []) }) ∷ [])) s.NoBlock (s.Then 2 (s.Return ([]) ([]) ([])) s.NoBlock s.End)) ≡ Accepted
unfolding computing
conditions_42 = refl

conditions_43 : body_verdict (record { predicates = ([]); specs = ((record { is_void = false; name = name_f; params = (name_p ∷ []); vars = ((name_a, sort.Int) ∷ []); pre = (record { opened = []; facts = ((Rel relation.Le (Number (pos 0)) (Var 0 sort.Int)) ∷ (Rel relation.Le (Var 0 sort.Int) (Number (pos 4294967295))) ∷ []); locals = ((name_p, (Of unary.Vi (Var 0 sort.Int))) ∷ []); items = ([]) }); post = (record { opened = []; facts = ([]); locals = []; items = ([]) }) }) ∷ []) }) (record { is_void = false; name = name_f; params = (name_p ∷ []); vars = ((name_a, sort.Int) ∷ []); pre = (record { opened = []; facts = ((Rel relation.Le (Number (pos 0)) (Var 0 sort.Int)) ∷ (Rel relation.Le (Var 0 sort.Int) (Number (pos 4294967295))) ∷ []); locals = ((name_p, (Of unary.Vi (Var 0 sort.Int))) ∷ []); items = ([]) }); post = (record { opened = []; facts = ([]); locals = []; items = ([]) }) }) (record { temps = (name_p ∷ name_t ∷ []); body = (c.Then (c.Set 1 (c.Binary two.And kind.Unsigned (c.Temp 0) (c.Const 7))) (c.Then (c.Return (Some (c.Const 0))) c.End)) }) (s.Then 1 (s.Set ([]) ((record { lines = ((line.Comb (((pos 1), 1) ∷ ((pos 1), 2) ∷ [])) ∷ []) }) ∷ [])) s.NoBlock (s.Then 2 (s.Return ([]) ([]) ([])) s.NoBlock s.End)) ≡ (RefusedAt 1 2 3)
unfolding computing
conditions_43 = refl

conditions_44 : body_verdict (record { predicates = ([]); specs = ((record { is_void = false; name = name_f; params = (name_p ∷ []); vars = ((name_a, sort.Int) ∷ []); pre = (record { opened = []; facts = ((Rel relation.Le (Number (pos 0)) (Var 0 sort.Int)) ∷ (Rel relation.Le (Var 0 sort.Int) (Number (pos 4294967295))) ∷ []); locals = ((name_p, (Of unary.Vi (Var 0 sort.Int))) ∷ []); items = ([]) }); post = (record { opened = []; facts = ([]); locals = []; items = ([]) }) }) ∷ []) }) (record { is_void = false; name = name_f; params = (name_p ∷ []); vars = ((name_a, sort.Int) ∷ []); pre = (record { opened = []; facts = ((Rel relation.Le (Number (pos 0)) (Var 0 sort.Int)) ∷ (Rel relation.Le (Var 0 sort.Int) (Number (pos 4294967295))) ∷ []); locals = ((name_p, (Of unary.Vi (Var 0 sort.Int))) ∷ []); items = ([]) }); post = (record { opened = []; facts = ([]); locals = []; items = ([]) }) }) (record { temps = (name_p ∷ name_t ∷ []); body = (c.Then (c.Set 1 (c.Binary two.And kind.Unsigned (c.Temp 0) (c.Const 7))) (c.Then (c.Return (Some (c.Const 0))) c.End)) }) (s.Then 1 (s.Set ([]) ([])) s.NoBlock (s.Then 2 (s.Return ([]) ([]) ([])) s.NoBlock s.End)) ≡ Accepted
unfolding computing
conditions_44 = refl

conditions_45 : body_verdict (record { predicates = ([]); specs = ((record { is_void = false; name = name_f; params = (name_p ∷ []); vars = ((name_a, sort.Int) ∷ []); pre = (record { opened = []; facts = ((Rel relation.Le (Number (pos 0)) (Var 0 sort.Int)) ∷ (Rel relation.Le (Var 0 sort.Int) (Number (pos 4294967295))) ∷ []); locals = ((name_p, (Of unary.Vi (Var 0 sort.Int))) ∷ []); items = ([]) }); post = (record { opened = []; facts = ([]); locals = []; items = ([]) }) }) ∷ []) }) (record { is_void = false; name = name_f; params = (name_p ∷ []); vars = ((name_a, sort.Int) ∷ []); pre = (record { opened = []; facts = ((Rel relation.Le (Number (pos 0)) (Var 0 sort.Int)) ∷ (Rel relation.Le (Var 0 sort.Int) (Number (pos 4294967295))) ∷ []); locals = ((name_p, (Of unary.Vi (Var 0 sort.Int))) ∷ []); items = ([]) }); post = (record { opened = []; facts = ([]); locals = []; items = ([]) }) }) (record { temps = (name_p ∷ name_t ∷ []); body = (c.Then (c.Set 1 (c.Binary two.Or kind.Unsigned (c.Temp 0) (c.Const 7))) (c.Then (c.Return (Some (c.Const 0))) c.End)) }) (s.Then 1 (s.Set ([]) ((record { lines = ((line.Comb (((pos 1), 1) ∷ ((pos 1), 2) ∷ [])) ∷ []) }) ∷ [])) s.NoBlock (s.Then 2 (s.Return ([]) ([]) ([])) s.NoBlock s.End)) ≡ (RefusedAt 1 2 3)
unfolding computing
conditions_45 = refl

conditions_46 : body_verdict (record { predicates = ([]); specs = ((record { is_void = false; name = name_f; params = (name_p ∷ []); vars = ((name_a, sort.Int) ∷ []); pre = (record { opened = []; facts = ((Rel relation.Le (Number (pos 0)) (Var 0 sort.Int)) ∷ (Rel relation.Le (Var 0 sort.Int) (Number (pos 4294967295))) ∷ []); locals = ((name_p, (Of unary.Vi (Var 0 sort.Int))) ∷ []); items = ([]) }); post = (record { opened = []; facts = ([]); locals = []; items = ([]) }) }) ∷ []) }) (record { is_void = false; name = name_f; params = (name_p ∷ []); vars = ((name_a, sort.Int) ∷ []); pre = (record { opened = []; facts = ((Rel relation.Le (Number (pos 0)) (Var 0 sort.Int)) ∷ (Rel relation.Le (Var 0 sort.Int) (Number (pos 4294967295))) ∷ []); locals = ((name_p, (Of unary.Vi (Var 0 sort.Int))) ∷ []); items = ([]) }); post = (record { opened = []; facts = ([]); locals = []; items = ([]) }) }) (record { temps = (name_p ∷ name_t ∷ []); body = (c.Then (c.Set 1 (c.Binary two.Or kind.Unsigned (c.Temp 0) (c.Const 7))) (c.Then (c.Return (Some (c.Const 0))) c.End)) }) (s.Then 1 (s.Set ([]) ([])) s.NoBlock (s.Then 2 (s.Return ([]) ([]) ([])) s.NoBlock s.End)) ≡ Accepted
unfolding computing
conditions_46 = refl

conditions_47 : body_verdict (record { predicates = ([]); specs = ((record { is_void = false; name = name_f; params = (name_p ∷ []); vars = ((name_a, sort.Int) ∷ []); pre = (record { opened = []; facts = ((Rel relation.Le (Number (pos 0)) (Var 0 sort.Int)) ∷ (Rel relation.Le (Var 0 sort.Int) (Number (pos 4294967295))) ∷ []); locals = ((name_p, (Of unary.Vi (Var 0 sort.Int))) ∷ []); items = ([]) }); post = (record { opened = []; facts = ([]); locals = []; items = ([]) }) }) ∷ []) }) (record { is_void = false; name = name_f; params = (name_p ∷ []); vars = ((name_a, sort.Int) ∷ []); pre = (record { opened = []; facts = ((Rel relation.Le (Number (pos 0)) (Var 0 sort.Int)) ∷ (Rel relation.Le (Var 0 sort.Int) (Number (pos 4294967295))) ∷ []); locals = ((name_p, (Of unary.Vi (Var 0 sort.Int))) ∷ []); items = ([]) }); post = (record { opened = []; facts = ([]); locals = []; items = ([]) }) }) (record { temps = (name_p ∷ name_t ∷ []); body = (c.Then (c.Set 1 (c.Binary two.Xor kind.Unsigned (c.Temp 0) (c.Const 7))) (c.Then (c.Return (Some (c.Const 0))) c.End)) }) (s.Then 1 (s.Set ([]) ((record { lines = ((line.Comb (((pos 1), 1) ∷ ((pos 1), 2) ∷ [])) ∷ []) }) ∷ [])) s.NoBlock (s.Then 2 (s.Return ([]) ([]) ([])) s.NoBlock s.End)) ≡ (RefusedAt 1 2 3)
unfolding computing
conditions_47 = refl

conditions_48 : body_verdict (record { predicates = ([]); specs = ((record { is_void = false; name = name_f; params = (name_p ∷ []); vars = ((name_a, sort.Int) ∷ []); pre = (record { opened = []; facts = ((Rel relation.Le (Number (pos 0)) (Var 0 sort.Int)) ∷ (Rel relation.Le (Var 0 sort.Int) (Number (pos 4294967295))) ∷ []); locals = ((name_p, (Of unary.Vi (Var 0 sort.Int))) ∷ []); items = ([]) }); post = (record { opened = []; facts = ([]); locals = []; items = ([]) }) }) ∷ []) }) (record { is_void = false; name = name_f; params = (name_p ∷ []); vars = ((name_a, sort.Int) ∷ []); pre = (record { opened = []; facts = ((Rel relation.Le (Number (pos 0)) (Var 0 sort.Int)) ∷ (Rel relation.Le (Var 0 sort.Int) (Number (pos 4294967295))) ∷ []); locals = ((name_p, (Of unary.Vi (Var 0 sort.Int))) ∷ []); items = ([]) }); post = (record { opened = []; facts = ([]); locals = []; items = ([]) }) }) (record { temps = (name_p ∷ name_t ∷ []); body = (c.Then (c.Set 1 (c.Binary two.Xor kind.Unsigned (c.Temp 0) (c.Const 7))) (c.Then (c.Return (Some (c.Const 0))) c.End)) }) (s.Then 1 (s.Set ([]) ([])) s.NoBlock (s.Then 2 (s.Return ([]) ([]) ([])) s.NoBlock s.End)) ≡ Accepted
unfolding computing
conditions_48 = refl

conditions_49 : body_verdict (record { predicates = ([]); specs = ((record { is_void = false; name = name_f; params = (name_p ∷ []); vars = ((name_a, sort.Int) ∷ []); pre = (record { opened = []; facts = ((Rel relation.Le (Number (pos 0)) (Var 0 sort.Int)) ∷ (Rel relation.Le (Var 0 sort.Int) (Number (pos 4294967295))) ∷ []); locals = ((name_p, (Of unary.Vi (Var 0 sort.Int))) ∷ []); items = ([]) }); post = (record { opened = []; facts = ([]); locals = []; items = ([]) }) }) ∷ []) }) (record { is_void = false; name = name_f; params = (name_p ∷ []); vars = ((name_a, sort.Int) ∷ []); pre = (record { opened = []; facts = ((Rel relation.Le (Number (pos 0)) (Var 0 sort.Int)) ∷ (Rel relation.Le (Var 0 sort.Int) (Number (pos 4294967295))) ∷ []); locals = ((name_p, (Of unary.Vi (Var 0 sort.Int))) ∷ []); items = ([]) }); post = (record { opened = []; facts = ([]); locals = []; items = ([]) }) }) (record { temps = (name_p ∷ name_t ∷ []); body = (c.Then (c.Set 1 (c.Unary one.Invert kind.Unsigned (c.Temp 0))) (c.Then (c.Return (Some (c.Const 0))) c.End)) }) (s.Then 1 (s.Set ([]) ([])) s.NoBlock (s.Then 2 (s.Return ([]) ([]) ([])) s.NoBlock s.End)) ≡ Accepted
unfolding computing
conditions_49 = refl

conditions_50 : body_verdict (record { predicates = ([]); specs = ((record { is_void = false; name = name_f; params = (name_p ∷ []); vars = ((name_a, sort.Int) ∷ []); pre = (record { opened = []; facts = ((Rel relation.Le (Number (pos 0)) (Var 0 sort.Int)) ∷ (Rel relation.Le (Var 0 sort.Int) (Number (pos 4294967295))) ∷ []); locals = ((name_p, (Of unary.Vi (Var 0 sort.Int))) ∷ []); items = ([]) }); post = (record { opened = []; facts = ([]); locals = []; items = ([]) }) }) ∷ []) }) (record { is_void = false; name = name_f; params = (name_p ∷ []); vars = ((name_a, sort.Int) ∷ []); pre = (record { opened = []; facts = ((Rel relation.Le (Number (pos 0)) (Var 0 sort.Int)) ∷ (Rel relation.Le (Var 0 sort.Int) (Number (pos 4294967295))) ∷ []); locals = ((name_p, (Of unary.Vi (Var 0 sort.Int))) ∷ []); items = ([]) }); post = (record { opened = []; facts = ([]); locals = []; items = ([]) }) }) (record { temps = (name_p ∷ name_t ∷ []); body = (c.Then (c.Set 1 (c.Unary one.Invert kind.Unsigned (c.Temp 0))) (c.Then (c.Return (Some (c.Const 0))) c.End)) }) (s.Then 1 (s.Set ([]) ((record { lines = ((line.Comb (((pos 1), 1) ∷ ((pos 1), 2) ∷ [])) ∷ []) }) ∷ [])) s.NoBlock (s.Then 2 (s.Return ([]) ([]) ([])) s.NoBlock s.End)) ≡ (RefusedAt 1 2 3)
unfolding computing
conditions_50 = refl

conditions_51 : body_verdict (record { predicates = ([]); specs = ((record { is_void = false; name = name_f; params = (name_p ∷ []); vars = ((name_a, sort.Int) ∷ []); pre = (record { opened = []; facts = ((Rel relation.Le (Number (pos 0)) (Var 0 sort.Int)) ∷ (Rel relation.Le (Var 0 sort.Int) (Number (pos 4294967296))) ∷ []); locals = ((name_p, (Of unary.Vi (Var 0 sort.Int))) ∷ []); items = ([]) }); post = (record { opened = []; facts = ([]); locals = []; items = ([]) }) }) ∷ []) }) (record { is_void = false; name = name_f; params = (name_p ∷ []); vars = ((name_a, sort.Int) ∷ []); pre = (record { opened = []; facts = ((Rel relation.Le (Number (pos 0)) (Var 0 sort.Int)) ∷ (Rel relation.Le (Var 0 sort.Int) (Number (pos 4294967296))) ∷ []); locals = ((name_p, (Of unary.Vi (Var 0 sort.Int))) ∷ []); items = ([]) }); post = (record { opened = []; facts = ([]); locals = []; items = ([]) }) }) (record { temps = (name_p ∷ name_t ∷ []); body = (c.Then (c.Set 1 (c.Binary two.And kind.Unsigned (c.Temp 0) (c.Const 7))) (c.Then (c.Return (Some (c.Const 0))) c.End)) }) (s.Then 1 (s.Set ([]) ((record { lines = ((line.Comb (((pos 1), 1) ∷ ((pos 1), 2) ∷ [])) ∷ []) }) ∷ [])) s.NoBlock (s.Then 2 (s.Return ([]) ([]) ([])) s.NoBlock s.End)) ≡ (RefusedAt 1 2 3)
unfolding computing
conditions_51 = refl

conditions_52 : body_verdict (record { predicates = ([]); specs = ((record { is_void = false; name = name_f; params = (name_p ∷ []); vars = ((name_a, sort.Int) ∷ []); pre = (record { opened = []; facts = ((Rel relation.Le (Number (pos 0)) (Var 0 sort.Int)) ∷ (Rel relation.Le (Var 0 sort.Int) (Number (pos 4294967296))) ∷ []); locals = ((name_p, (Of unary.Vi (Var 0 sort.Int))) ∷ []); items = ([]) }); post = (record { opened = []; facts = ([]); locals = []; items = ([]) }) }) ∷ []) }) (record { is_void = false; name = name_f; params = (name_p ∷ []); vars = ((name_a, sort.Int) ∷ []); pre = (record { opened = []; facts = ((Rel relation.Le (Number (pos 0)) (Var 0 sort.Int)) ∷ (Rel relation.Le (Var 0 sort.Int) (Number (pos 4294967296))) ∷ []); locals = ((name_p, (Of unary.Vi (Var 0 sort.Int))) ∷ []); items = ([]) }); post = (record { opened = []; facts = ([]); locals = []; items = ([]) }) }) (record { temps = (name_p ∷ name_t ∷ []); body = (c.Then (c.Set 1 (c.Binary two.And kind.Unsigned (c.Temp 0) (c.Const 7))) (c.Then (c.Return (Some (c.Const 0))) c.End)) }) (s.Then 1 (s.Set ([]) ([])) s.NoBlock (s.Then 2 (s.Return ([]) ([]) ([])) s.NoBlock s.End)) ≡ (RefusedAt 1 2 3)
unfolding computing
conditions_52 = refl

conditions_53 : body_verdict (record { predicates = ([]); specs = ((record { is_void = false; name = name_f; params = (name_p ∷ []); vars = ((name_a, sort.Int) ∷ []); pre = (record { opened = []; facts = ((Rel relation.Le (Number (pos 0)) (Var 0 sort.Int)) ∷ (Rel relation.Le (Var 0 sort.Int) (Number (pos 4294967296))) ∷ []); locals = ((name_p, (Of unary.Vi (Var 0 sort.Int))) ∷ []); items = ([]) }); post = (record { opened = []; facts = ([]); locals = []; items = ([]) }) }) ∷ []) }) (record { is_void = false; name = name_f; params = (name_p ∷ []); vars = ((name_a, sort.Int) ∷ []); pre = (record { opened = []; facts = ((Rel relation.Le (Number (pos 0)) (Var 0 sort.Int)) ∷ (Rel relation.Le (Var 0 sort.Int) (Number (pos 4294967296))) ∷ []); locals = ((name_p, (Of unary.Vi (Var 0 sort.Int))) ∷ []); items = ([]) }); post = (record { opened = []; facts = ([]); locals = []; items = ([]) }) }) (record { temps = (name_p ∷ name_t ∷ []); body = (c.Then (c.Set 1 (c.Binary two.Or kind.Unsigned (c.Temp 0) (c.Const 7))) (c.Then (c.Return (Some (c.Const 0))) c.End)) }) (s.Then 1 (s.Set ([]) ((record { lines = ((line.Comb (((pos 1), 1) ∷ ((pos 1), 2) ∷ [])) ∷ []) }) ∷ [])) s.NoBlock (s.Then 2 (s.Return ([]) ([]) ([])) s.NoBlock s.End)) ≡ (RefusedAt 1 2 3)
unfolding computing
conditions_53 = refl

conditions_54 : body_verdict (record { predicates = ([]); specs = ((record { is_void = false; name = name_f; params = (name_p ∷ []); vars = ((name_a, sort.Int) ∷ []); pre = (record { opened = []; facts = ((Rel relation.Le (Number (pos 0)) (Var 0 sort.Int)) ∷ (Rel relation.Le (Var 0 sort.Int) (Number (pos 4294967296))) ∷ []); locals = ((name_p, (Of unary.Vi (Var 0 sort.Int))) ∷ []); items = ([]) }); post = (record { opened = []; facts = ([]); locals = []; items = ([]) }) }) ∷ []) }) (record { is_void = false; name = name_f; params = (name_p ∷ []); vars = ((name_a, sort.Int) ∷ []); pre = (record { opened = []; facts = ((Rel relation.Le (Number (pos 0)) (Var 0 sort.Int)) ∷ (Rel relation.Le (Var 0 sort.Int) (Number (pos 4294967296))) ∷ []); locals = ((name_p, (Of unary.Vi (Var 0 sort.Int))) ∷ []); items = ([]) }); post = (record { opened = []; facts = ([]); locals = []; items = ([]) }) }) (record { temps = (name_p ∷ name_t ∷ []); body = (c.Then (c.Set 1 (c.Binary two.Or kind.Unsigned (c.Temp 0) (c.Const 7))) (c.Then (c.Return (Some (c.Const 0))) c.End)) }) (s.Then 1 (s.Set ([]) ([])) s.NoBlock (s.Then 2 (s.Return ([]) ([]) ([])) s.NoBlock s.End)) ≡ (RefusedAt 1 2 3)
unfolding computing
conditions_54 = refl

conditions_55 : body_verdict (record { predicates = ([]); specs = ((record { is_void = false; name = name_f; params = (name_p ∷ []); vars = ((name_a, sort.Int) ∷ []); pre = (record { opened = []; facts = ((Rel relation.Le (Number (pos 0)) (Var 0 sort.Int)) ∷ (Rel relation.Le (Var 0 sort.Int) (Number (pos 4294967296))) ∷ []); locals = ((name_p, (Of unary.Vi (Var 0 sort.Int))) ∷ []); items = ([]) }); post = (record { opened = []; facts = ([]); locals = []; items = ([]) }) }) ∷ []) }) (record { is_void = false; name = name_f; params = (name_p ∷ []); vars = ((name_a, sort.Int) ∷ []); pre = (record { opened = []; facts = ((Rel relation.Le (Number (pos 0)) (Var 0 sort.Int)) ∷ (Rel relation.Le (Var 0 sort.Int) (Number (pos 4294967296))) ∷ []); locals = ((name_p, (Of unary.Vi (Var 0 sort.Int))) ∷ []); items = ([]) }); post = (record { opened = []; facts = ([]); locals = []; items = ([]) }) }) (record { temps = (name_p ∷ name_t ∷ []); body = (c.Then (c.Set 1 (c.Binary two.Xor kind.Unsigned (c.Temp 0) (c.Const 7))) (c.Then (c.Return (Some (c.Const 0))) c.End)) }) (s.Then 1 (s.Set ([]) ((record { lines = ((line.Comb (((pos 1), 1) ∷ ((pos 1), 2) ∷ [])) ∷ []) }) ∷ [])) s.NoBlock (s.Then 2 (s.Return ([]) ([]) ([])) s.NoBlock s.End)) ≡ (RefusedAt 1 2 3)
unfolding computing
conditions_55 = refl

conditions_56 : body_verdict (record { predicates = ([]); specs = ((record { is_void = false; name = name_f; params = (name_p ∷ []); vars = ((name_a, sort.Int) ∷ []); pre = (record { opened = []; facts = ((Rel relation.Le (Number (pos 0)) (Var 0 sort.Int)) ∷ (Rel relation.Le (Var 0 sort.Int) (Number (pos 4294967296))) ∷ []); locals = ((name_p, (Of unary.Vi (Var 0 sort.Int))) ∷ []); items = ([]) }); post = (record { opened = []; facts = ([]); locals = []; items = ([]) }) }) ∷ []) }) (record { is_void = false; name = name_f; params = (name_p ∷ []); vars = ((name_a, sort.Int) ∷ []); pre = (record { opened = []; facts = ((Rel relation.Le (Number (pos 0)) (Var 0 sort.Int)) ∷ (Rel relation.Le (Var 0 sort.Int) (Number (pos 4294967296))) ∷ []); locals = ((name_p, (Of unary.Vi (Var 0 sort.Int))) ∷ []); items = ([]) }); post = (record { opened = []; facts = ([]); locals = []; items = ([]) }) }) (record { temps = (name_p ∷ name_t ∷ []); body = (c.Then (c.Set 1 (c.Binary two.Xor kind.Unsigned (c.Temp 0) (c.Const 7))) (c.Then (c.Return (Some (c.Const 0))) c.End)) }) (s.Then 1 (s.Set ([]) ([])) s.NoBlock (s.Then 2 (s.Return ([]) ([]) ([])) s.NoBlock s.End)) ≡ (RefusedAt 1 2 3)
unfolding computing
conditions_56 = refl

conditions_57 : body_verdict (record { predicates = ([]); specs = ((record { is_void = false; name = name_f; params = (name_p ∷ []); vars = ((name_a, sort.Int) ∷ []); pre = (record { opened = []; facts = ((Rel relation.Le (Number (pos 0)) (Var 0 sort.Int)) ∷ (Rel relation.Le (Var 0 sort.Int) (Number (pos 4294967296))) ∷ []); locals = ((name_p, (Of unary.Vi (Var 0 sort.Int))) ∷ []); items = ([]) }); post = (record { opened = []; facts = ([]); locals = []; items = ([]) }) }) ∷ []) }) (record { is_void = false; name = name_f; params = (name_p ∷ []); vars = ((name_a, sort.Int) ∷ []); pre = (record { opened = []; facts = ((Rel relation.Le (Number (pos 0)) (Var 0 sort.Int)) ∷ (Rel relation.Le (Var 0 sort.Int) (Number (pos 4294967296))) ∷ []); locals = ((name_p, (Of unary.Vi (Var 0 sort.Int))) ∷ []); items = ([]) }); post = (record { opened = []; facts = ([]); locals = []; items = ([]) }) }) (record { temps = (name_p ∷ name_t ∷ []); body = (c.Then (c.Set 1 (c.Unary one.Invert kind.Unsigned (c.Temp 0))) (c.Then (c.Return (Some (c.Const 0))) c.End)) }) (s.Then 1 (s.Set ([]) ([])) s.NoBlock (s.Then 2 (s.Return ([]) ([]) ([])) s.NoBlock s.End)) ≡ (RefusedAt 1 2 3)
unfolding computing
conditions_57 = refl

conditions_58 : body_verdict (record { predicates = ([]); specs = ((record { is_void = false; name = name_f; params = (name_p ∷ []); vars = ((name_a, sort.Int) ∷ []); pre = (record { opened = []; facts = ((Rel relation.Le (Number (pos 0)) (Var 0 sort.Int)) ∷ (Rel relation.Le (Var 0 sort.Int) (Number (pos 4294967296))) ∷ []); locals = ((name_p, (Of unary.Vi (Var 0 sort.Int))) ∷ []); items = ([]) }); post = (record { opened = []; facts = ([]); locals = []; items = ([]) }) }) ∷ []) }) (record { is_void = false; name = name_f; params = (name_p ∷ []); vars = ((name_a, sort.Int) ∷ []); pre = (record { opened = []; facts = ((Rel relation.Le (Number (pos 0)) (Var 0 sort.Int)) ∷ (Rel relation.Le (Var 0 sort.Int) (Number (pos 4294967296))) ∷ []); locals = ((name_p, (Of unary.Vi (Var 0 sort.Int))) ∷ []); items = ([]) }); post = (record { opened = []; facts = ([]); locals = []; items = ([]) }) }) (record { temps = (name_p ∷ name_t ∷ []); body = (c.Then (c.Set 1 (c.Unary one.Invert kind.Unsigned (c.Temp 0))) (c.Then (c.Return (Some (c.Const 0))) c.End)) }) (s.Then 1 (s.Set ([]) ((record { lines = ((line.Comb (((pos 1), 1) ∷ ((pos 1), 2) ∷ [])) ∷ []) }) ∷ [])) s.NoBlock (s.Then 2 (s.Return ([]) ([]) ([])) s.NoBlock s.End)) ≡ (RefusedAt 1 2 3)
unfolding computing
conditions_58 = refl

conditions_59 : body_verdict (record { predicates = ([]); specs = ((record { is_void = false; name = name_f; params = (name_p ∷ name_q ∷ []); vars = ((name_a, sort.Int) ∷ (name_b, sort.Int) ∷ []); pre = (record { opened = []; facts = ((Rel relation.Le (Number (pos 0)) (Var 0 sort.Int)) ∷ (Rel relation.Le (Var 0 sort.Int) (Number (pos 9))) ∷ (Rel relation.Le (Number (pos 0)) (Var 1 sort.Int)) ∷ (Rel relation.Le (Var 1 sort.Int) (Number (pos 9))) ∷ []); locals = ((name_p, (Of unary.Vi (Var 0 sort.Int))) ∷ (name_q, (Of unary.Vi (Var 1 sort.Int))) ∷ []); items = ([]) }); post = (record { opened = []; facts = ([]); locals = []; items = ([]) }) }) ∷ []) }) (record { is_void = false; name = name_f; params = (name_p ∷ name_q ∷ []); vars = ((name_a, sort.Int) ∷ (name_b, sort.Int) ∷ []); pre = (record { opened = []; facts = ((Rel relation.Le (Number (pos 0)) (Var 0 sort.Int)) ∷ (Rel relation.Le (Var 0 sort.Int) (Number (pos 9))) ∷ (Rel relation.Le (Number (pos 0)) (Var 1 sort.Int)) ∷ (Rel relation.Le (Var 1 sort.Int) (Number (pos 9))) ∷ []); locals = ((name_p, (Of unary.Vi (Var 0 sort.Int))) ∷ (name_q, (Of unary.Vi (Var 1 sort.Int))) ∷ []); items = ([]) }); post = (record { opened = []; facts = ([]); locals = []; items = ([]) }) }) (record { temps = (name_p ∷ name_q ∷ name_t ∷ []); body = (c.Then (c.Set 2 (c.Binary two.Lt kind.Signed (c.Temp 0) (c.Temp 1))) (c.Then (c.Return (Some (c.Const 0))) c.End)) }) (s.Then 1 (s.Set ([]) ([])) s.NoBlock (s.Then 2 (s.Return ([]) ([]) ([])) s.NoBlock s.End)) ≡ (RefusedAt 1 2 3)
unfolding computing
conditions_59 = refl

conditions_60 : body_verdict (record { predicates = ([]); specs = ((record { is_void = false; name = name_f; params = (name_p ∷ name_q ∷ []); vars = ((name_a, sort.Int) ∷ (name_b, sort.Int) ∷ []); pre = (record { opened = []; facts = ((Rel relation.Le (Number (pos 0)) (Var 0 sort.Int)) ∷ (Rel relation.Le (Var 0 sort.Int) (Number (pos 9))) ∷ (Rel relation.Le (Number (pos 0)) (Var 1 sort.Int)) ∷ (Rel relation.Le (Var 1 sort.Int) (Number (pos 9))) ∷ []); locals = ((name_p, (Of unary.Vi (Var 0 sort.Int))) ∷ (name_q, (Of unary.Vi (Var 1 sort.Int))) ∷ []); items = ([]) }); post = (record { opened = []; facts = ([]); locals = []; items = ([]) }) }) ∷ []) }) (record { is_void = false; name = name_f; params = (name_p ∷ name_q ∷ []); vars = ((name_a, sort.Int) ∷ (name_b, sort.Int) ∷ []); pre = (record { opened = []; facts = ((Rel relation.Le (Number (pos 0)) (Var 0 sort.Int)) ∷ (Rel relation.Le (Var 0 sort.Int) (Number (pos 9))) ∷ (Rel relation.Le (Number (pos 0)) (Var 1 sort.Int)) ∷ (Rel relation.Le (Var 1 sort.Int) (Number (pos 9))) ∷ []); locals = ((name_p, (Of unary.Vi (Var 0 sort.Int))) ∷ (name_q, (Of unary.Vi (Var 1 sort.Int))) ∷ []); items = ([]) }); post = (record { opened = []; facts = ([]); locals = []; items = ([]) }) }) (record { temps = (name_p ∷ name_q ∷ name_t ∷ []); body = (c.Then (c.Set 2 (c.Binary two.Lt kind.Signed (c.Temp 0) (c.Temp 1))) (c.Then (c.Return (Some (c.Const 0))) c.End)) }) (s.Then 1 (s.Set ([]) ((record { lines = ((line.Comb (((pos 1), 0) ∷ ((pos 1), 4) ∷ [])) ∷ []) }) ∷ (record { lines = ((line.Comb (((pos 1), 1) ∷ ((pos 1), 4) ∷ [])) ∷ []) }) ∷ (record { lines = ((line.Comb (((pos 1), 2) ∷ ((pos 1), 4) ∷ [])) ∷ []) }) ∷ (record { lines = ((line.Comb (((pos 1), 3) ∷ ((pos 1), 4) ∷ [])) ∷ []) }) ∷ [])) s.NoBlock (s.Then 2 (s.Return ([]) ([]) ([])) s.NoBlock s.End)) ≡ Accepted
unfolding computing
conditions_60 = refl

conditions_61 : body_verdict (record { predicates = ([]); specs = ((record { is_void = false; name = name_f; params = (name_p ∷ name_q ∷ []); vars = ((name_a, sort.Int) ∷ (name_b, sort.Int) ∷ []); pre = (record { opened = []; facts = ((Rel relation.Le (Number (pos 0)) (Var 0 sort.Int)) ∷ (Rel relation.Le (Var 0 sort.Int) (Number (pos 9))) ∷ (Rel relation.Le (Number (pos 0)) (Var 1 sort.Int)) ∷ (Rel relation.Le (Var 1 sort.Int) (Number (pos 9))) ∷ []); locals = ((name_p, (Of unary.Vi (Var 0 sort.Int))) ∷ (name_q, (Of unary.Vi (Var 1 sort.Int))) ∷ []); items = ([]) }); post = (record { opened = []; facts = ((Rel relation.Eq (Var 2 sort.Val) (Of unary.Vi (Of2 binary.Lt (Var 0 sort.Int) (Var 1 sort.Int)))) ∷ []); locals = []; items = ([]) }) }) ∷ []) }) (record { is_void = false; name = name_f; params = (name_p ∷ name_q ∷ []); vars = ((name_a, sort.Int) ∷ (name_b, sort.Int) ∷ []); pre = (record { opened = []; facts = ((Rel relation.Le (Number (pos 0)) (Var 0 sort.Int)) ∷ (Rel relation.Le (Var 0 sort.Int) (Number (pos 9))) ∷ (Rel relation.Le (Number (pos 0)) (Var 1 sort.Int)) ∷ (Rel relation.Le (Var 1 sort.Int) (Number (pos 9))) ∷ []); locals = ((name_p, (Of unary.Vi (Var 0 sort.Int))) ∷ (name_q, (Of unary.Vi (Var 1 sort.Int))) ∷ []); items = ([]) }); post = (record { opened = []; facts = ((Rel relation.Eq (Var 2 sort.Val) (Of unary.Vi (Of2 binary.Lt (Var 0 sort.Int) (Var 1 sort.Int)))) ∷ []); locals = []; items = ([]) }) }) (record { temps = (name_p ∷ name_q ∷ name_t ∷ []); body = (c.Then (c.Set 2 (c.Binary two.Lt kind.Signed (c.Temp 0) (c.Temp 1))) (c.Then (c.Return (Some (c.Temp 2))) c.End)) }) (s.Then 1 (s.Set ([]) ((record { lines = ((line.Comb (((pos 1), 0) ∷ ((pos 1), 4) ∷ [])) ∷ []) }) ∷ (record { lines = ((line.Comb (((pos 1), 1) ∷ ((pos 1), 4) ∷ [])) ∷ []) }) ∷ (record { lines = ((line.Comb (((pos 1), 2) ∷ ((pos 1), 4) ∷ [])) ∷ []) }) ∷ (record { lines = ((line.Comb (((pos 1), 3) ∷ ((pos 1), 4) ∷ [])) ∷ []) }) ∷ [])) s.NoBlock (s.Then 2 (s.Return ([]) ([]) ([])) s.NoBlock s.End)) ≡ Accepted
unfolding computing
conditions_61 = refl

conditions_62 : body_verdict (record { predicates = ([]); specs = ((record { is_void = false; name = name_f; params = (name_p ∷ name_q ∷ []); vars = ((name_a, sort.Int) ∷ (name_b, sort.Int) ∷ []); pre = (record { opened = []; facts = ((Rel relation.Le (Number (pos 0)) (Var 0 sort.Int)) ∷ (Rel relation.Le (Var 0 sort.Int) (Number (pos 9))) ∷ (Rel relation.Le (Number (pos 0)) (Var 1 sort.Int)) ∷ (Rel relation.Le (Var 1 sort.Int) (Number (pos 9))) ∷ []); locals = ((name_p, (Of unary.Vi (Var 0 sort.Int))) ∷ (name_q, (Of unary.Vi (Var 1 sort.Int))) ∷ []); items = ([]) }); post = (record { opened = []; facts = ((Rel relation.Eq (Var 2 sort.Val) (Of unary.Vi (Of2 binary.Le (Var 0 sort.Int) (Var 1 sort.Int)))) ∷ []); locals = []; items = ([]) }) }) ∷ []) }) (record { is_void = false; name = name_f; params = (name_p ∷ name_q ∷ []); vars = ((name_a, sort.Int) ∷ (name_b, sort.Int) ∷ []); pre = (record { opened = []; facts = ((Rel relation.Le (Number (pos 0)) (Var 0 sort.Int)) ∷ (Rel relation.Le (Var 0 sort.Int) (Number (pos 9))) ∷ (Rel relation.Le (Number (pos 0)) (Var 1 sort.Int)) ∷ (Rel relation.Le (Var 1 sort.Int) (Number (pos 9))) ∷ []); locals = ((name_p, (Of unary.Vi (Var 0 sort.Int))) ∷ (name_q, (Of unary.Vi (Var 1 sort.Int))) ∷ []); items = ([]) }); post = (record { opened = []; facts = ((Rel relation.Eq (Var 2 sort.Val) (Of unary.Vi (Of2 binary.Le (Var 0 sort.Int) (Var 1 sort.Int)))) ∷ []); locals = []; items = ([]) }) }) (record { temps = (name_p ∷ name_q ∷ name_t ∷ []); body = (c.Then (c.Set 2 (c.Binary two.Lt kind.Signed (c.Temp 0) (c.Temp 1))) (c.Then (c.Return (Some (c.Temp 2))) c.End)) }) (s.Then 1 (s.Set ([]) ((record { lines = ((line.Comb (((pos 1), 0) ∷ ((pos 1), 4) ∷ [])) ∷ []) }) ∷ (record { lines = ((line.Comb (((pos 1), 1) ∷ ((pos 1), 4) ∷ [])) ∷ []) }) ∷ (record { lines = ((line.Comb (((pos 1), 2) ∷ ((pos 1), 4) ∷ [])) ∷ []) }) ∷ (record { lines = ((line.Comb (((pos 1), 3) ∷ ((pos 1), 4) ∷ [])) ∷ []) }) ∷ [])) s.NoBlock (s.Then 2 (s.Return ([]) ([]) ([])) s.NoBlock s.End)) ≡ (RefusedAt 2 9 3)
unfolding computing
conditions_62 = refl

conditions_63 : body_verdict (record { predicates = ([]); specs = ((record { is_void = false; name = name_f; params = (name_p ∷ name_q ∷ []); vars = ((name_a, sort.Int) ∷ (name_b, sort.Int) ∷ []); pre = (record { opened = []; facts = ((Rel relation.Le (Of2 binary.Sub (Number (pos 0)) (Number (pos 5))) (Var 0 sort.Int)) ∷ (Rel relation.Le (Var 0 sort.Int) (Number (pos 9))) ∷ (Rel relation.Le (Of2 binary.Sub (Number (pos 0)) (Number (pos 5))) (Var 1 sort.Int)) ∷ (Rel relation.Le (Var 1 sort.Int) (Number (pos 9))) ∷ []); locals = ((name_p, (Of unary.Vi (Var 0 sort.Int))) ∷ (name_q, (Of unary.Vi (Var 1 sort.Int))) ∷ []); items = ([]) }); post = (record { opened = []; facts = ([]); locals = []; items = ([]) }) }) ∷ []) }) (record { is_void = false; name = name_f; params = (name_p ∷ name_q ∷ []); vars = ((name_a, sort.Int) ∷ (name_b, sort.Int) ∷ []); pre = (record { opened = []; facts = ((Rel relation.Le (Of2 binary.Sub (Number (pos 0)) (Number (pos 5))) (Var 0 sort.Int)) ∷ (Rel relation.Le (Var 0 sort.Int) (Number (pos 9))) ∷ (Rel relation.Le (Of2 binary.Sub (Number (pos 0)) (Number (pos 5))) (Var 1 sort.Int)) ∷ (Rel relation.Le (Var 1 sort.Int) (Number (pos 9))) ∷ []); locals = ((name_p, (Of unary.Vi (Var 0 sort.Int))) ∷ (name_q, (Of unary.Vi (Var 1 sort.Int))) ∷ []); items = ([]) }); post = (record { opened = []; facts = ([]); locals = []; items = ([]) }) }) (record { temps = (name_p ∷ name_q ∷ []); body = (c.Then (c.If (c.Nonzero kind.Signed (c.Binary two.Lt kind.Signed (c.Temp 0) (c.Temp 1))) (c.Then (c.Return (Some (c.Const 0))) c.End) c.End) (c.Then (c.Return (Some (c.Const 1))) c.End)) }) (s.Then 1 (s.If ([]) ((record { lines = ((line.Comb (((pos 1), 0) ∷ ((pos 1), 4) ∷ [])) ∷ []) }) ∷ (record { lines = ((line.Comb (((pos 1), 1) ∷ ((pos 1), 4) ∷ [])) ∷ []) }) ∷ (record { lines = ((line.Comb (((pos 1), 2) ∷ ((pos 1), 4) ∷ [])) ∷ []) }) ∷ (record { lines = ((line.Comb (((pos 1), 3) ∷ ((pos 1), 4) ∷ [])) ∷ []) }) ∷ []) ([]) ([])) (s.WithBlock (s.Then 2 (s.Have (Rel relation.Lt (Named name_a) (Named name_b)) ([])) s.NoBlock (s.Then 3 (s.Return ([]) ([]) ([])) s.NoBlock s.End)) (s.WithBlock (s.Then 4 (s.Have (Rel relation.Le (Named name_b) (Named name_a)) ([])) s.NoBlock (s.Then 5 (s.Return ([]) ([]) ([])) s.NoBlock s.End)) s.NoBlock)) s.End) ≡ Accepted
unfolding computing
conditions_63 = refl

conditions_64 : body_verdict (record { predicates = ([]); specs = ((record { is_void = false; name = name_f; params = (name_p ∷ name_q ∷ []); vars = ((name_a, sort.Int) ∷ (name_b, sort.Int) ∷ []); pre = (record { opened = []; facts = ((Rel relation.Le (Of2 binary.Sub (Number (pos 0)) (Number (pos 5))) (Var 0 sort.Int)) ∷ (Rel relation.Le (Var 0 sort.Int) (Number (pos 9))) ∷ (Rel relation.Le (Of2 binary.Sub (Number (pos 0)) (Number (pos 5))) (Var 1 sort.Int)) ∷ (Rel relation.Le (Var 1 sort.Int) (Number (pos 9))) ∷ []); locals = ((name_p, (Of unary.Vi (Var 0 sort.Int))) ∷ (name_q, (Of unary.Vi (Var 1 sort.Int))) ∷ []); items = ([]) }); post = (record { opened = []; facts = ([]); locals = []; items = ([]) }) }) ∷ []) }) (record { is_void = false; name = name_f; params = (name_p ∷ name_q ∷ []); vars = ((name_a, sort.Int) ∷ (name_b, sort.Int) ∷ []); pre = (record { opened = []; facts = ((Rel relation.Le (Of2 binary.Sub (Number (pos 0)) (Number (pos 5))) (Var 0 sort.Int)) ∷ (Rel relation.Le (Var 0 sort.Int) (Number (pos 9))) ∷ (Rel relation.Le (Of2 binary.Sub (Number (pos 0)) (Number (pos 5))) (Var 1 sort.Int)) ∷ (Rel relation.Le (Var 1 sort.Int) (Number (pos 9))) ∷ []); locals = ((name_p, (Of unary.Vi (Var 0 sort.Int))) ∷ (name_q, (Of unary.Vi (Var 1 sort.Int))) ∷ []); items = ([]) }); post = (record { opened = []; facts = ([]); locals = []; items = ([]) }) }) (record { temps = (name_p ∷ name_q ∷ []); body = (c.Then (c.If (c.Nonzero kind.Signed (c.Binary two.Lt kind.Signed (c.Temp 0) (c.Temp 1))) (c.Then (c.Return (Some (c.Const 0))) c.End) c.End) (c.Then (c.Return (Some (c.Const 1))) c.End)) }) (s.Then 1 (s.If ([]) ((record { lines = ((line.Comb (((pos 1), 0) ∷ ((pos 1), 4) ∷ [])) ∷ []) }) ∷ (record { lines = ((line.Comb (((pos 1), 1) ∷ ((pos 1), 4) ∷ [])) ∷ []) }) ∷ (record { lines = ((line.Comb (((pos 1), 2) ∷ ((pos 1), 4) ∷ [])) ∷ []) }) ∷ (record { lines = ((line.Comb (((pos 1), 3) ∷ ((pos 1), 4) ∷ [])) ∷ []) }) ∷ []) ([]) ([])) (s.WithBlock (s.Then 2 (s.Have (Rel relation.Le (Named name_a) (Named name_b)) ([])) s.NoBlock (s.Then 3 (s.Return ([]) ([]) ([])) s.NoBlock s.End)) (s.WithBlock (s.Then 4 (s.Have (Rel relation.Lt (Named name_b) (Named name_a)) ([])) s.NoBlock (s.Then 5 (s.Return ([]) ([]) ([])) s.NoBlock s.End)) s.NoBlock)) s.End) ≡ (RefusedAt 2 25 3)
unfolding computing
conditions_64 = refl

conditions_65 : body_verdict (record { predicates = ([]); specs = ((record { is_void = false; name = name_f; params = (name_p ∷ name_q ∷ []); vars = ((name_a, sort.Int) ∷ (name_b, sort.Int) ∷ []); pre = (record { opened = []; facts = ((Rel relation.Le (Of2 binary.Sub (Number (pos 0)) (Number (pos 5))) (Var 0 sort.Int)) ∷ (Rel relation.Le (Var 0 sort.Int) (Number (pos 9))) ∷ (Rel relation.Le (Of2 binary.Sub (Number (pos 0)) (Number (pos 5))) (Var 1 sort.Int)) ∷ (Rel relation.Le (Var 1 sort.Int) (Number (pos 9))) ∷ []); locals = ((name_p, (Of unary.Vi (Var 0 sort.Int))) ∷ (name_q, (Of unary.Vi (Var 1 sort.Int))) ∷ []); items = ([]) }); post = (record { opened = []; facts = ([]); locals = []; items = ([]) }) }) ∷ []) }) (record { is_void = false; name = name_f; params = (name_p ∷ name_q ∷ []); vars = ((name_a, sort.Int) ∷ (name_b, sort.Int) ∷ []); pre = (record { opened = []; facts = ((Rel relation.Le (Of2 binary.Sub (Number (pos 0)) (Number (pos 5))) (Var 0 sort.Int)) ∷ (Rel relation.Le (Var 0 sort.Int) (Number (pos 9))) ∷ (Rel relation.Le (Of2 binary.Sub (Number (pos 0)) (Number (pos 5))) (Var 1 sort.Int)) ∷ (Rel relation.Le (Var 1 sort.Int) (Number (pos 9))) ∷ []); locals = ((name_p, (Of unary.Vi (Var 0 sort.Int))) ∷ (name_q, (Of unary.Vi (Var 1 sort.Int))) ∷ []); items = ([]) }); post = (record { opened = []; facts = ([]); locals = []; items = ([]) }) }) (record { temps = (name_p ∷ name_q ∷ []); body = (c.Then (c.If (c.Nonzero kind.Signed (c.Binary two.Lt kind.Signed (c.Temp 0) (c.Temp 1))) (c.Then (c.Return (Some (c.Const 0))) c.End) c.End) (c.Then (c.Return (Some (c.Const 1))) c.End)) }) (s.Then 1 (s.If ([]) ((record { lines = ((line.Comb (((pos 1), 0) ∷ ((pos 1), 4) ∷ [])) ∷ []) }) ∷ (record { lines = ((line.Comb (((pos 1), 1) ∷ ((pos 1), 4) ∷ [])) ∷ []) }) ∷ (record { lines = ((line.Comb (((pos 1), 2) ∷ ((pos 1), 4) ∷ [])) ∷ []) }) ∷ (record { lines = ((line.Comb (((pos 1), 3) ∷ ((pos 1), 4) ∷ [])) ∷ []) }) ∷ []) ([]) ([])) (s.WithBlock (s.Then 2 (s.Have (Rel relation.Eq (Named name_a) (Named name_b)) ([])) s.NoBlock (s.Then 3 (s.Return ([]) ([]) ([])) s.NoBlock s.End)) (s.WithBlock (s.Then 4 (s.Have (Rel relation.Ne (Named name_a) (Named name_b)) ([])) s.NoBlock (s.Then 5 (s.Return ([]) ([]) ([])) s.NoBlock s.End)) s.NoBlock)) s.End) ≡ (RefusedAt 2 25 3)
unfolding computing
conditions_65 = refl

conditions_66 : body_verdict (record { predicates = ([]); specs = ((record { is_void = false; name = name_f; params = (name_p ∷ name_q ∷ []); vars = ((name_a, sort.Int) ∷ (name_b, sort.Int) ∷ []); pre = (record { opened = []; facts = ((Rel relation.Le (Of2 binary.Sub (Number (pos 0)) (Number (pos 5))) (Var 0 sort.Int)) ∷ (Rel relation.Le (Var 0 sort.Int) (Number (pos 9))) ∷ (Rel relation.Le (Of2 binary.Sub (Number (pos 0)) (Number (pos 5))) (Var 1 sort.Int)) ∷ (Rel relation.Le (Var 1 sort.Int) (Number (pos 9))) ∷ []); locals = ((name_p, (Of unary.Vi (Var 0 sort.Int))) ∷ (name_q, (Of unary.Vi (Var 1 sort.Int))) ∷ []); items = ([]) }); post = (record { opened = []; facts = ([]); locals = []; items = ([]) }) }) ∷ []) }) (record { is_void = false; name = name_f; params = (name_p ∷ name_q ∷ []); vars = ((name_a, sort.Int) ∷ (name_b, sort.Int) ∷ []); pre = (record { opened = []; facts = ((Rel relation.Le (Of2 binary.Sub (Number (pos 0)) (Number (pos 5))) (Var 0 sort.Int)) ∷ (Rel relation.Le (Var 0 sort.Int) (Number (pos 9))) ∷ (Rel relation.Le (Of2 binary.Sub (Number (pos 0)) (Number (pos 5))) (Var 1 sort.Int)) ∷ (Rel relation.Le (Var 1 sort.Int) (Number (pos 9))) ∷ []); locals = ((name_p, (Of unary.Vi (Var 0 sort.Int))) ∷ (name_q, (Of unary.Vi (Var 1 sort.Int))) ∷ []); items = ([]) }); post = (record { opened = []; facts = ([]); locals = []; items = ([]) }) }) (record { temps = (name_p ∷ name_q ∷ []); body = (c.Then (c.If (c.Nonzero kind.Signed (c.Binary two.Lt kind.Signed (c.Temp 0) (c.Temp 1))) (c.Then (c.Return (Some (c.Const 0))) c.End) c.End) (c.Then (c.Return (Some (c.Const 1))) c.End)) }) (s.Then 1 (s.If ([]) ((record { lines = ((line.Comb (((pos 1), 0) ∷ ((pos 1), 4) ∷ [])) ∷ []) }) ∷ (record { lines = ((line.Comb (((pos 1), 1) ∷ ((pos 1), 4) ∷ [])) ∷ []) }) ∷ (record { lines = ((line.Comb (((pos 1), 2) ∷ ((pos 1), 4) ∷ [])) ∷ []) }) ∷ (record { lines = ((line.Comb (((pos 1), 3) ∷ ((pos 1), 4) ∷ [])) ∷ []) }) ∷ []) ([]) ([])) (s.WithBlock (s.Then 2 (s.Have (Rel relation.Ne (Named name_a) (Named name_b)) ([])) s.NoBlock (s.Then 3 (s.Return ([]) ([]) ([])) s.NoBlock s.End)) (s.WithBlock (s.Then 4 (s.Have (Rel relation.Eq (Named name_b) (Named name_a)) ([])) s.NoBlock (s.Then 5 (s.Return ([]) ([]) ([])) s.NoBlock s.End)) s.NoBlock)) s.End) ≡ (RefusedAt 2 25 3)
unfolding computing
conditions_66 = refl

conditions_67 : body_verdict (record { predicates = ([]); specs = ((record { is_void = false; name = name_f; params = (name_p ∷ name_q ∷ []); vars = ((name_a, sort.Int) ∷ (name_b, sort.Int) ∷ []); pre = (record { opened = []; facts = ((Rel relation.Le (Number (pos 0)) (Var 0 sort.Int)) ∷ (Rel relation.Le (Var 0 sort.Int) (Number (pos 9))) ∷ (Rel relation.Le (Number (pos 0)) (Var 1 sort.Int)) ∷ (Rel relation.Le (Var 1 sort.Int) (Number (pos 9))) ∷ []); locals = ((name_p, (Of unary.Vi (Var 0 sort.Int))) ∷ (name_q, (Of unary.Vi (Var 1 sort.Int))) ∷ []); items = ([]) }); post = (record { opened = []; facts = ([]); locals = []; items = ([]) }) }) ∷ []) }) (record { is_void = false; name = name_f; params = (name_p ∷ name_q ∷ []); vars = ((name_a, sort.Int) ∷ (name_b, sort.Int) ∷ []); pre = (record { opened = []; facts = ((Rel relation.Le (Number (pos 0)) (Var 0 sort.Int)) ∷ (Rel relation.Le (Var 0 sort.Int) (Number (pos 9))) ∷ (Rel relation.Le (Number (pos 0)) (Var 1 sort.Int)) ∷ (Rel relation.Le (Var 1 sort.Int) (Number (pos 9))) ∷ []); locals = ((name_p, (Of unary.Vi (Var 0 sort.Int))) ∷ (name_q, (Of unary.Vi (Var 1 sort.Int))) ∷ []); items = ([]) }); post = (record { opened = []; facts = ([]); locals = []; items = ([]) }) }) (record { temps = (name_p ∷ name_q ∷ name_t ∷ []); body = (c.Then (c.Set 2 (c.Binary two.Le kind.Signed (c.Temp 0) (c.Temp 1))) (c.Then (c.Return (Some (c.Const 0))) c.End)) }) (s.Then 1 (s.Set ([]) ([])) s.NoBlock (s.Then 2 (s.Return ([]) ([]) ([])) s.NoBlock s.End)) ≡ (RefusedAt 1 2 3)
unfolding computing
conditions_67 = refl

conditions_68 : body_verdict (record { predicates = ([]); specs = ((record { is_void = false; name = name_f; params = (name_p ∷ name_q ∷ []); vars = ((name_a, sort.Int) ∷ (name_b, sort.Int) ∷ []); pre = (record { opened = []; facts = ((Rel relation.Le (Number (pos 0)) (Var 0 sort.Int)) ∷ (Rel relation.Le (Var 0 sort.Int) (Number (pos 9))) ∷ (Rel relation.Le (Number (pos 0)) (Var 1 sort.Int)) ∷ (Rel relation.Le (Var 1 sort.Int) (Number (pos 9))) ∷ []); locals = ((name_p, (Of unary.Vi (Var 0 sort.Int))) ∷ (name_q, (Of unary.Vi (Var 1 sort.Int))) ∷ []); items = ([]) }); post = (record { opened = []; facts = ([]); locals = []; items = ([]) }) }) ∷ []) }) (record { is_void = false; name = name_f; params = (name_p ∷ name_q ∷ []); vars = ((name_a, sort.Int) ∷ (name_b, sort.Int) ∷ []); pre = (record { opened = []; facts = ((Rel relation.Le (Number (pos 0)) (Var 0 sort.Int)) ∷ (Rel relation.Le (Var 0 sort.Int) (Number (pos 9))) ∷ (Rel relation.Le (Number (pos 0)) (Var 1 sort.Int)) ∷ (Rel relation.Le (Var 1 sort.Int) (Number (pos 9))) ∷ []); locals = ((name_p, (Of unary.Vi (Var 0 sort.Int))) ∷ (name_q, (Of unary.Vi (Var 1 sort.Int))) ∷ []); items = ([]) }); post = (record { opened = []; facts = ([]); locals = []; items = ([]) }) }) (record { temps = (name_p ∷ name_q ∷ name_t ∷ []); body = (c.Then (c.Set 2 (c.Binary two.Le kind.Signed (c.Temp 0) (c.Temp 1))) (c.Then (c.Return (Some (c.Const 0))) c.End)) }) (s.Then 1 (s.Set ([]) ((record { lines = ((line.Comb (((pos 1), 0) ∷ ((pos 1), 4) ∷ [])) ∷ []) }) ∷ (record { lines = ((line.Comb (((pos 1), 1) ∷ ((pos 1), 4) ∷ [])) ∷ []) }) ∷ (record { lines = ((line.Comb (((pos 1), 2) ∷ ((pos 1), 4) ∷ [])) ∷ []) }) ∷ (record { lines = ((line.Comb (((pos 1), 3) ∷ ((pos 1), 4) ∷ [])) ∷ []) }) ∷ [])) s.NoBlock (s.Then 2 (s.Return ([]) ([]) ([])) s.NoBlock s.End)) ≡ Accepted
unfolding computing
conditions_68 = refl

conditions_69 : body_verdict (record { predicates = ([]); specs = ((record { is_void = false; name = name_f; params = (name_p ∷ name_q ∷ []); vars = ((name_a, sort.Int) ∷ (name_b, sort.Int) ∷ []); pre = (record { opened = []; facts = ((Rel relation.Le (Number (pos 0)) (Var 0 sort.Int)) ∷ (Rel relation.Le (Var 0 sort.Int) (Number (pos 9))) ∷ (Rel relation.Le (Number (pos 0)) (Var 1 sort.Int)) ∷ (Rel relation.Le (Var 1 sort.Int) (Number (pos 9))) ∷ []); locals = ((name_p, (Of unary.Vi (Var 0 sort.Int))) ∷ (name_q, (Of unary.Vi (Var 1 sort.Int))) ∷ []); items = ([]) }); post = (record { opened = []; facts = ((Rel relation.Eq (Var 2 sort.Val) (Of unary.Vi (Of2 binary.Lt (Var 0 sort.Int) (Var 1 sort.Int)))) ∷ []); locals = []; items = ([]) }) }) ∷ []) }) (record { is_void = false; name = name_f; params = (name_p ∷ name_q ∷ []); vars = ((name_a, sort.Int) ∷ (name_b, sort.Int) ∷ []); pre = (record { opened = []; facts = ((Rel relation.Le (Number (pos 0)) (Var 0 sort.Int)) ∷ (Rel relation.Le (Var 0 sort.Int) (Number (pos 9))) ∷ (Rel relation.Le (Number (pos 0)) (Var 1 sort.Int)) ∷ (Rel relation.Le (Var 1 sort.Int) (Number (pos 9))) ∷ []); locals = ((name_p, (Of unary.Vi (Var 0 sort.Int))) ∷ (name_q, (Of unary.Vi (Var 1 sort.Int))) ∷ []); items = ([]) }); post = (record { opened = []; facts = ((Rel relation.Eq (Var 2 sort.Val) (Of unary.Vi (Of2 binary.Lt (Var 0 sort.Int) (Var 1 sort.Int)))) ∷ []); locals = []; items = ([]) }) }) (record { temps = (name_p ∷ name_q ∷ name_t ∷ []); body = (c.Then (c.Set 2 (c.Binary two.Le kind.Signed (c.Temp 0) (c.Temp 1))) (c.Then (c.Return (Some (c.Temp 2))) c.End)) }) (s.Then 1 (s.Set ([]) ((record { lines = ((line.Comb (((pos 1), 0) ∷ ((pos 1), 4) ∷ [])) ∷ []) }) ∷ (record { lines = ((line.Comb (((pos 1), 1) ∷ ((pos 1), 4) ∷ [])) ∷ []) }) ∷ (record { lines = ((line.Comb (((pos 1), 2) ∷ ((pos 1), 4) ∷ [])) ∷ []) }) ∷ (record { lines = ((line.Comb (((pos 1), 3) ∷ ((pos 1), 4) ∷ [])) ∷ []) }) ∷ [])) s.NoBlock (s.Then 2 (s.Return ([]) ([]) ([])) s.NoBlock s.End)) ≡ (RefusedAt 2 9 3)
unfolding computing
conditions_69 = refl

conditions_70 : body_verdict (record { predicates = ([]); specs = ((record { is_void = false; name = name_f; params = (name_p ∷ name_q ∷ []); vars = ((name_a, sort.Int) ∷ (name_b, sort.Int) ∷ []); pre = (record { opened = []; facts = ((Rel relation.Le (Number (pos 0)) (Var 0 sort.Int)) ∷ (Rel relation.Le (Var 0 sort.Int) (Number (pos 9))) ∷ (Rel relation.Le (Number (pos 0)) (Var 1 sort.Int)) ∷ (Rel relation.Le (Var 1 sort.Int) (Number (pos 9))) ∷ []); locals = ((name_p, (Of unary.Vi (Var 0 sort.Int))) ∷ (name_q, (Of unary.Vi (Var 1 sort.Int))) ∷ []); items = ([]) }); post = (record { opened = []; facts = ((Rel relation.Eq (Var 2 sort.Val) (Of unary.Vi (Of2 binary.Le (Var 0 sort.Int) (Var 1 sort.Int)))) ∷ []); locals = []; items = ([]) }) }) ∷ []) }) (record { is_void = false; name = name_f; params = (name_p ∷ name_q ∷ []); vars = ((name_a, sort.Int) ∷ (name_b, sort.Int) ∷ []); pre = (record { opened = []; facts = ((Rel relation.Le (Number (pos 0)) (Var 0 sort.Int)) ∷ (Rel relation.Le (Var 0 sort.Int) (Number (pos 9))) ∷ (Rel relation.Le (Number (pos 0)) (Var 1 sort.Int)) ∷ (Rel relation.Le (Var 1 sort.Int) (Number (pos 9))) ∷ []); locals = ((name_p, (Of unary.Vi (Var 0 sort.Int))) ∷ (name_q, (Of unary.Vi (Var 1 sort.Int))) ∷ []); items = ([]) }); post = (record { opened = []; facts = ((Rel relation.Eq (Var 2 sort.Val) (Of unary.Vi (Of2 binary.Le (Var 0 sort.Int) (Var 1 sort.Int)))) ∷ []); locals = []; items = ([]) }) }) (record { temps = (name_p ∷ name_q ∷ name_t ∷ []); body = (c.Then (c.Set 2 (c.Binary two.Le kind.Signed (c.Temp 0) (c.Temp 1))) (c.Then (c.Return (Some (c.Temp 2))) c.End)) }) (s.Then 1 (s.Set ([]) ((record { lines = ((line.Comb (((pos 1), 0) ∷ ((pos 1), 4) ∷ [])) ∷ []) }) ∷ (record { lines = ((line.Comb (((pos 1), 1) ∷ ((pos 1), 4) ∷ [])) ∷ []) }) ∷ (record { lines = ((line.Comb (((pos 1), 2) ∷ ((pos 1), 4) ∷ [])) ∷ []) }) ∷ (record { lines = ((line.Comb (((pos 1), 3) ∷ ((pos 1), 4) ∷ [])) ∷ []) }) ∷ [])) s.NoBlock (s.Then 2 (s.Return ([]) ([]) ([])) s.NoBlock s.End)) ≡ Accepted
unfolding computing
conditions_70 = refl

conditions_71 : body_verdict (record { predicates = ([]); specs = ((record { is_void = false; name = name_f; params = (name_p ∷ name_q ∷ []); vars = ((name_a, sort.Int) ∷ (name_b, sort.Int) ∷ []); pre = (record { opened = []; facts = ((Rel relation.Le (Of2 binary.Sub (Number (pos 0)) (Number (pos 5))) (Var 0 sort.Int)) ∷ (Rel relation.Le (Var 0 sort.Int) (Number (pos 9))) ∷ (Rel relation.Le (Of2 binary.Sub (Number (pos 0)) (Number (pos 5))) (Var 1 sort.Int)) ∷ (Rel relation.Le (Var 1 sort.Int) (Number (pos 9))) ∷ []); locals = ((name_p, (Of unary.Vi (Var 0 sort.Int))) ∷ (name_q, (Of unary.Vi (Var 1 sort.Int))) ∷ []); items = ([]) }); post = (record { opened = []; facts = ([]); locals = []; items = ([]) }) }) ∷ []) }) (record { is_void = false; name = name_f; params = (name_p ∷ name_q ∷ []); vars = ((name_a, sort.Int) ∷ (name_b, sort.Int) ∷ []); pre = (record { opened = []; facts = ((Rel relation.Le (Of2 binary.Sub (Number (pos 0)) (Number (pos 5))) (Var 0 sort.Int)) ∷ (Rel relation.Le (Var 0 sort.Int) (Number (pos 9))) ∷ (Rel relation.Le (Of2 binary.Sub (Number (pos 0)) (Number (pos 5))) (Var 1 sort.Int)) ∷ (Rel relation.Le (Var 1 sort.Int) (Number (pos 9))) ∷ []); locals = ((name_p, (Of unary.Vi (Var 0 sort.Int))) ∷ (name_q, (Of unary.Vi (Var 1 sort.Int))) ∷ []); items = ([]) }); post = (record { opened = []; facts = ([]); locals = []; items = ([]) }) }) (record { temps = (name_p ∷ name_q ∷ []); body = (c.Then (c.If (c.Nonzero kind.Signed (c.Binary two.Le kind.Signed (c.Temp 0) (c.Temp 1))) (c.Then (c.Return (Some (c.Const 0))) c.End) c.End) (c.Then (c.Return (Some (c.Const 1))) c.End)) }) (s.Then 1 (s.If ([]) ((record { lines = ((line.Comb (((pos 1), 0) ∷ ((pos 1), 4) ∷ [])) ∷ []) }) ∷ (record { lines = ((line.Comb (((pos 1), 1) ∷ ((pos 1), 4) ∷ [])) ∷ []) }) ∷ (record { lines = ((line.Comb (((pos 1), 2) ∷ ((pos 1), 4) ∷ [])) ∷ []) }) ∷ (record { lines = ((line.Comb (((pos 1), 3) ∷ ((pos 1), 4) ∷ [])) ∷ []) }) ∷ []) ([]) ([])) (s.WithBlock (s.Then 2 (s.Have (Rel relation.Lt (Named name_a) (Named name_b)) ([])) s.NoBlock (s.Then 3 (s.Return ([]) ([]) ([])) s.NoBlock s.End)) (s.WithBlock (s.Then 4 (s.Have (Rel relation.Le (Named name_b) (Named name_a)) ([])) s.NoBlock (s.Then 5 (s.Return ([]) ([]) ([])) s.NoBlock s.End)) s.NoBlock)) s.End) ≡ (RefusedAt 2 25 3)
unfolding computing
conditions_71 = refl

conditions_72 : body_verdict (record { predicates = ([]); specs = ((record { is_void = false; name = name_f; params = (name_p ∷ name_q ∷ []); vars = ((name_a, sort.Int) ∷ (name_b, sort.Int) ∷ []); pre = (record { opened = []; facts = ((Rel relation.Le (Of2 binary.Sub (Number (pos 0)) (Number (pos 5))) (Var 0 sort.Int)) ∷ (Rel relation.Le (Var 0 sort.Int) (Number (pos 9))) ∷ (Rel relation.Le (Of2 binary.Sub (Number (pos 0)) (Number (pos 5))) (Var 1 sort.Int)) ∷ (Rel relation.Le (Var 1 sort.Int) (Number (pos 9))) ∷ []); locals = ((name_p, (Of unary.Vi (Var 0 sort.Int))) ∷ (name_q, (Of unary.Vi (Var 1 sort.Int))) ∷ []); items = ([]) }); post = (record { opened = []; facts = ([]); locals = []; items = ([]) }) }) ∷ []) }) (record { is_void = false; name = name_f; params = (name_p ∷ name_q ∷ []); vars = ((name_a, sort.Int) ∷ (name_b, sort.Int) ∷ []); pre = (record { opened = []; facts = ((Rel relation.Le (Of2 binary.Sub (Number (pos 0)) (Number (pos 5))) (Var 0 sort.Int)) ∷ (Rel relation.Le (Var 0 sort.Int) (Number (pos 9))) ∷ (Rel relation.Le (Of2 binary.Sub (Number (pos 0)) (Number (pos 5))) (Var 1 sort.Int)) ∷ (Rel relation.Le (Var 1 sort.Int) (Number (pos 9))) ∷ []); locals = ((name_p, (Of unary.Vi (Var 0 sort.Int))) ∷ (name_q, (Of unary.Vi (Var 1 sort.Int))) ∷ []); items = ([]) }); post = (record { opened = []; facts = ([]); locals = []; items = ([]) }) }) (record { temps = (name_p ∷ name_q ∷ []); body = (c.Then (c.If (c.Nonzero kind.Signed (c.Binary two.Le kind.Signed (c.Temp 0) (c.Temp 1))) (c.Then (c.Return (Some (c.Const 0))) c.End) c.End) (c.Then (c.Return (Some (c.Const 1))) c.End)) }) (s.Then 1 (s.If ([]) ((record { lines = ((line.Comb (((pos 1), 0) ∷ ((pos 1), 4) ∷ [])) ∷ []) }) ∷ (record { lines = ((line.Comb (((pos 1), 1) ∷ ((pos 1), 4) ∷ [])) ∷ []) }) ∷ (record { lines = ((line.Comb (((pos 1), 2) ∷ ((pos 1), 4) ∷ [])) ∷ []) }) ∷ (record { lines = ((line.Comb (((pos 1), 3) ∷ ((pos 1), 4) ∷ [])) ∷ []) }) ∷ []) ([]) ([])) (s.WithBlock (s.Then 2 (s.Have (Rel relation.Le (Named name_a) (Named name_b)) ([])) s.NoBlock (s.Then 3 (s.Return ([]) ([]) ([])) s.NoBlock s.End)) (s.WithBlock (s.Then 4 (s.Have (Rel relation.Lt (Named name_b) (Named name_a)) ([])) s.NoBlock (s.Then 5 (s.Return ([]) ([]) ([])) s.NoBlock s.End)) s.NoBlock)) s.End) ≡ Accepted
unfolding computing
conditions_72 = refl

conditions_73 : body_verdict (record { predicates = ([]); specs = ((record { is_void = false; name = name_f; params = (name_p ∷ name_q ∷ []); vars = ((name_a, sort.Int) ∷ (name_b, sort.Int) ∷ []); pre = (record { opened = []; facts = ((Rel relation.Le (Of2 binary.Sub (Number (pos 0)) (Number (pos 5))) (Var 0 sort.Int)) ∷ (Rel relation.Le (Var 0 sort.Int) (Number (pos 9))) ∷ (Rel relation.Le (Of2 binary.Sub (Number (pos 0)) (Number (pos 5))) (Var 1 sort.Int)) ∷ (Rel relation.Le (Var 1 sort.Int) (Number (pos 9))) ∷ []); locals = ((name_p, (Of unary.Vi (Var 0 sort.Int))) ∷ (name_q, (Of unary.Vi (Var 1 sort.Int))) ∷ []); items = ([]) }); post = (record { opened = []; facts = ([]); locals = []; items = ([]) }) }) ∷ []) }) (record { is_void = false; name = name_f; params = (name_p ∷ name_q ∷ []); vars = ((name_a, sort.Int) ∷ (name_b, sort.Int) ∷ []); pre = (record { opened = []; facts = ((Rel relation.Le (Of2 binary.Sub (Number (pos 0)) (Number (pos 5))) (Var 0 sort.Int)) ∷ (Rel relation.Le (Var 0 sort.Int) (Number (pos 9))) ∷ (Rel relation.Le (Of2 binary.Sub (Number (pos 0)) (Number (pos 5))) (Var 1 sort.Int)) ∷ (Rel relation.Le (Var 1 sort.Int) (Number (pos 9))) ∷ []); locals = ((name_p, (Of unary.Vi (Var 0 sort.Int))) ∷ (name_q, (Of unary.Vi (Var 1 sort.Int))) ∷ []); items = ([]) }); post = (record { opened = []; facts = ([]); locals = []; items = ([]) }) }) (record { temps = (name_p ∷ name_q ∷ []); body = (c.Then (c.If (c.Nonzero kind.Signed (c.Binary two.Le kind.Signed (c.Temp 0) (c.Temp 1))) (c.Then (c.Return (Some (c.Const 0))) c.End) c.End) (c.Then (c.Return (Some (c.Const 1))) c.End)) }) (s.Then 1 (s.If ([]) ((record { lines = ((line.Comb (((pos 1), 0) ∷ ((pos 1), 4) ∷ [])) ∷ []) }) ∷ (record { lines = ((line.Comb (((pos 1), 1) ∷ ((pos 1), 4) ∷ [])) ∷ []) }) ∷ (record { lines = ((line.Comb (((pos 1), 2) ∷ ((pos 1), 4) ∷ [])) ∷ []) }) ∷ (record { lines = ((line.Comb (((pos 1), 3) ∷ ((pos 1), 4) ∷ [])) ∷ []) }) ∷ []) ([]) ([])) (s.WithBlock (s.Then 2 (s.Have (Rel relation.Eq (Named name_a) (Named name_b)) ([])) s.NoBlock (s.Then 3 (s.Return ([]) ([]) ([])) s.NoBlock s.End)) (s.WithBlock (s.Then 4 (s.Have (Rel relation.Ne (Named name_a) (Named name_b)) ([])) s.NoBlock (s.Then 5 (s.Return ([]) ([]) ([])) s.NoBlock s.End)) s.NoBlock)) s.End) ≡ (RefusedAt 2 25 3)
unfolding computing
conditions_73 = refl

conditions_74 : body_verdict (record { predicates = ([]); specs = ((record { is_void = false; name = name_f; params = (name_p ∷ name_q ∷ []); vars = ((name_a, sort.Int) ∷ (name_b, sort.Int) ∷ []); pre = (record { opened = []; facts = ((Rel relation.Le (Of2 binary.Sub (Number (pos 0)) (Number (pos 5))) (Var 0 sort.Int)) ∷ (Rel relation.Le (Var 0 sort.Int) (Number (pos 9))) ∷ (Rel relation.Le (Of2 binary.Sub (Number (pos 0)) (Number (pos 5))) (Var 1 sort.Int)) ∷ (Rel relation.Le (Var 1 sort.Int) (Number (pos 9))) ∷ []); locals = ((name_p, (Of unary.Vi (Var 0 sort.Int))) ∷ (name_q, (Of unary.Vi (Var 1 sort.Int))) ∷ []); items = ([]) }); post = (record { opened = []; facts = ([]); locals = []; items = ([]) }) }) ∷ []) }) (record { is_void = false; name = name_f; params = (name_p ∷ name_q ∷ []); vars = ((name_a, sort.Int) ∷ (name_b, sort.Int) ∷ []); pre = (record { opened = []; facts = ((Rel relation.Le (Of2 binary.Sub (Number (pos 0)) (Number (pos 5))) (Var 0 sort.Int)) ∷ (Rel relation.Le (Var 0 sort.Int) (Number (pos 9))) ∷ (Rel relation.Le (Of2 binary.Sub (Number (pos 0)) (Number (pos 5))) (Var 1 sort.Int)) ∷ (Rel relation.Le (Var 1 sort.Int) (Number (pos 9))) ∷ []); locals = ((name_p, (Of unary.Vi (Var 0 sort.Int))) ∷ (name_q, (Of unary.Vi (Var 1 sort.Int))) ∷ []); items = ([]) }); post = (record { opened = []; facts = ([]); locals = []; items = ([]) }) }) (record { temps = (name_p ∷ name_q ∷ []); body = (c.Then (c.If (c.Nonzero kind.Signed (c.Binary two.Le kind.Signed (c.Temp 0) (c.Temp 1))) (c.Then (c.Return (Some (c.Const 0))) c.End) c.End) (c.Then (c.Return (Some (c.Const 1))) c.End)) }) (s.Then 1 (s.If ([]) ((record { lines = ((line.Comb (((pos 1), 0) ∷ ((pos 1), 4) ∷ [])) ∷ []) }) ∷ (record { lines = ((line.Comb (((pos 1), 1) ∷ ((pos 1), 4) ∷ [])) ∷ []) }) ∷ (record { lines = ((line.Comb (((pos 1), 2) ∷ ((pos 1), 4) ∷ [])) ∷ []) }) ∷ (record { lines = ((line.Comb (((pos 1), 3) ∷ ((pos 1), 4) ∷ [])) ∷ []) }) ∷ []) ([]) ([])) (s.WithBlock (s.Then 2 (s.Have (Rel relation.Ne (Named name_a) (Named name_b)) ([])) s.NoBlock (s.Then 3 (s.Return ([]) ([]) ([])) s.NoBlock s.End)) (s.WithBlock (s.Then 4 (s.Have (Rel relation.Eq (Named name_b) (Named name_a)) ([])) s.NoBlock (s.Then 5 (s.Return ([]) ([]) ([])) s.NoBlock s.End)) s.NoBlock)) s.End) ≡ (RefusedAt 2 25 3)
unfolding computing
conditions_74 = refl

conditions_75 : body_verdict (record { predicates = ([]); specs = ((record { is_void = false; name = name_f; params = (name_p ∷ name_q ∷ []); vars = ((name_a, sort.Int) ∷ (name_b, sort.Int) ∷ []); pre = (record { opened = []; facts = ((Rel relation.Le (Number (pos 0)) (Var 0 sort.Int)) ∷ (Rel relation.Le (Var 0 sort.Int) (Number (pos 9))) ∷ (Rel relation.Le (Number (pos 0)) (Var 1 sort.Int)) ∷ (Rel relation.Le (Var 1 sort.Int) (Number (pos 9))) ∷ []); locals = ((name_p, (Of unary.Vi (Var 0 sort.Int))) ∷ (name_q, (Of unary.Vi (Var 1 sort.Int))) ∷ []); items = ([]) }); post = (record { opened = []; facts = ([]); locals = []; items = ([]) }) }) ∷ []) }) (record { is_void = false; name = name_f; params = (name_p ∷ name_q ∷ []); vars = ((name_a, sort.Int) ∷ (name_b, sort.Int) ∷ []); pre = (record { opened = []; facts = ((Rel relation.Le (Number (pos 0)) (Var 0 sort.Int)) ∷ (Rel relation.Le (Var 0 sort.Int) (Number (pos 9))) ∷ (Rel relation.Le (Number (pos 0)) (Var 1 sort.Int)) ∷ (Rel relation.Le (Var 1 sort.Int) (Number (pos 9))) ∷ []); locals = ((name_p, (Of unary.Vi (Var 0 sort.Int))) ∷ (name_q, (Of unary.Vi (Var 1 sort.Int))) ∷ []); items = ([]) }); post = (record { opened = []; facts = ([]); locals = []; items = ([]) }) }) (record { temps = (name_p ∷ name_q ∷ name_t ∷ []); body = (c.Then (c.Set 2 (c.Binary two.Gt kind.Signed (c.Temp 0) (c.Temp 1))) (c.Then (c.Return (Some (c.Const 0))) c.End)) }) (s.Then 1 (s.Set ([]) ([])) s.NoBlock (s.Then 2 (s.Return ([]) ([]) ([])) s.NoBlock s.End)) ≡ (RefusedAt 1 2 3)
unfolding computing
conditions_75 = refl

conditions_76 : body_verdict (record { predicates = ([]); specs = ((record { is_void = false; name = name_f; params = (name_p ∷ name_q ∷ []); vars = ((name_a, sort.Int) ∷ (name_b, sort.Int) ∷ []); pre = (record { opened = []; facts = ((Rel relation.Le (Number (pos 0)) (Var 0 sort.Int)) ∷ (Rel relation.Le (Var 0 sort.Int) (Number (pos 9))) ∷ (Rel relation.Le (Number (pos 0)) (Var 1 sort.Int)) ∷ (Rel relation.Le (Var 1 sort.Int) (Number (pos 9))) ∷ []); locals = ((name_p, (Of unary.Vi (Var 0 sort.Int))) ∷ (name_q, (Of unary.Vi (Var 1 sort.Int))) ∷ []); items = ([]) }); post = (record { opened = []; facts = ([]); locals = []; items = ([]) }) }) ∷ []) }) (record { is_void = false; name = name_f; params = (name_p ∷ name_q ∷ []); vars = ((name_a, sort.Int) ∷ (name_b, sort.Int) ∷ []); pre = (record { opened = []; facts = ((Rel relation.Le (Number (pos 0)) (Var 0 sort.Int)) ∷ (Rel relation.Le (Var 0 sort.Int) (Number (pos 9))) ∷ (Rel relation.Le (Number (pos 0)) (Var 1 sort.Int)) ∷ (Rel relation.Le (Var 1 sort.Int) (Number (pos 9))) ∷ []); locals = ((name_p, (Of unary.Vi (Var 0 sort.Int))) ∷ (name_q, (Of unary.Vi (Var 1 sort.Int))) ∷ []); items = ([]) }); post = (record { opened = []; facts = ([]); locals = []; items = ([]) }) }) (record { temps = (name_p ∷ name_q ∷ name_t ∷ []); body = (c.Then (c.Set 2 (c.Binary two.Gt kind.Signed (c.Temp 0) (c.Temp 1))) (c.Then (c.Return (Some (c.Const 0))) c.End)) }) (s.Then 1 (s.Set ([]) ((record { lines = ((line.Comb (((pos 1), 0) ∷ ((pos 1), 4) ∷ [])) ∷ []) }) ∷ (record { lines = ((line.Comb (((pos 1), 1) ∷ ((pos 1), 4) ∷ [])) ∷ []) }) ∷ (record { lines = ((line.Comb (((pos 1), 2) ∷ ((pos 1), 4) ∷ [])) ∷ []) }) ∷ (record { lines = ((line.Comb (((pos 1), 3) ∷ ((pos 1), 4) ∷ [])) ∷ []) }) ∷ [])) s.NoBlock (s.Then 2 (s.Return ([]) ([]) ([])) s.NoBlock s.End)) ≡ Accepted
unfolding computing
conditions_76 = refl

conditions_77 : body_verdict (record { predicates = ([]); specs = ((record { is_void = false; name = name_f; params = (name_p ∷ name_q ∷ []); vars = ((name_a, sort.Int) ∷ (name_b, sort.Int) ∷ []); pre = (record { opened = []; facts = ((Rel relation.Le (Number (pos 0)) (Var 0 sort.Int)) ∷ (Rel relation.Le (Var 0 sort.Int) (Number (pos 9))) ∷ (Rel relation.Le (Number (pos 0)) (Var 1 sort.Int)) ∷ (Rel relation.Le (Var 1 sort.Int) (Number (pos 9))) ∷ []); locals = ((name_p, (Of unary.Vi (Var 0 sort.Int))) ∷ (name_q, (Of unary.Vi (Var 1 sort.Int))) ∷ []); items = ([]) }); post = (record { opened = []; facts = ((Rel relation.Eq (Var 2 sort.Val) (Of unary.Vi (Of2 binary.Lt (Var 0 sort.Int) (Var 1 sort.Int)))) ∷ []); locals = []; items = ([]) }) }) ∷ []) }) (record { is_void = false; name = name_f; params = (name_p ∷ name_q ∷ []); vars = ((name_a, sort.Int) ∷ (name_b, sort.Int) ∷ []); pre = (record { opened = []; facts = ((Rel relation.Le (Number (pos 0)) (Var 0 sort.Int)) ∷ (Rel relation.Le (Var 0 sort.Int) (Number (pos 9))) ∷ (Rel relation.Le (Number (pos 0)) (Var 1 sort.Int)) ∷ (Rel relation.Le (Var 1 sort.Int) (Number (pos 9))) ∷ []); locals = ((name_p, (Of unary.Vi (Var 0 sort.Int))) ∷ (name_q, (Of unary.Vi (Var 1 sort.Int))) ∷ []); items = ([]) }); post = (record { opened = []; facts = ((Rel relation.Eq (Var 2 sort.Val) (Of unary.Vi (Of2 binary.Lt (Var 0 sort.Int) (Var 1 sort.Int)))) ∷ []); locals = []; items = ([]) }) }) (record { temps = (name_p ∷ name_q ∷ name_t ∷ []); body = (c.Then (c.Set 2 (c.Binary two.Gt kind.Signed (c.Temp 0) (c.Temp 1))) (c.Then (c.Return (Some (c.Temp 2))) c.End)) }) (s.Then 1 (s.Set ([]) ((record { lines = ((line.Comb (((pos 1), 0) ∷ ((pos 1), 4) ∷ [])) ∷ []) }) ∷ (record { lines = ((line.Comb (((pos 1), 1) ∷ ((pos 1), 4) ∷ [])) ∷ []) }) ∷ (record { lines = ((line.Comb (((pos 1), 2) ∷ ((pos 1), 4) ∷ [])) ∷ []) }) ∷ (record { lines = ((line.Comb (((pos 1), 3) ∷ ((pos 1), 4) ∷ [])) ∷ []) }) ∷ [])) s.NoBlock (s.Then 2 (s.Return ([]) ([]) ([])) s.NoBlock s.End)) ≡ (RefusedAt 2 9 3)
unfolding computing
conditions_77 = refl

conditions_78 : body_verdict (record { predicates = ([]); specs = ((record { is_void = false; name = name_f; params = (name_p ∷ name_q ∷ []); vars = ((name_a, sort.Int) ∷ (name_b, sort.Int) ∷ []); pre = (record { opened = []; facts = ((Rel relation.Le (Number (pos 0)) (Var 0 sort.Int)) ∷ (Rel relation.Le (Var 0 sort.Int) (Number (pos 9))) ∷ (Rel relation.Le (Number (pos 0)) (Var 1 sort.Int)) ∷ (Rel relation.Le (Var 1 sort.Int) (Number (pos 9))) ∷ []); locals = ((name_p, (Of unary.Vi (Var 0 sort.Int))) ∷ (name_q, (Of unary.Vi (Var 1 sort.Int))) ∷ []); items = ([]) }); post = (record { opened = []; facts = ((Rel relation.Eq (Var 2 sort.Val) (Of unary.Vi (Of2 binary.Le (Var 0 sort.Int) (Var 1 sort.Int)))) ∷ []); locals = []; items = ([]) }) }) ∷ []) }) (record { is_void = false; name = name_f; params = (name_p ∷ name_q ∷ []); vars = ((name_a, sort.Int) ∷ (name_b, sort.Int) ∷ []); pre = (record { opened = []; facts = ((Rel relation.Le (Number (pos 0)) (Var 0 sort.Int)) ∷ (Rel relation.Le (Var 0 sort.Int) (Number (pos 9))) ∷ (Rel relation.Le (Number (pos 0)) (Var 1 sort.Int)) ∷ (Rel relation.Le (Var 1 sort.Int) (Number (pos 9))) ∷ []); locals = ((name_p, (Of unary.Vi (Var 0 sort.Int))) ∷ (name_q, (Of unary.Vi (Var 1 sort.Int))) ∷ []); items = ([]) }); post = (record { opened = []; facts = ((Rel relation.Eq (Var 2 sort.Val) (Of unary.Vi (Of2 binary.Le (Var 0 sort.Int) (Var 1 sort.Int)))) ∷ []); locals = []; items = ([]) }) }) (record { temps = (name_p ∷ name_q ∷ name_t ∷ []); body = (c.Then (c.Set 2 (c.Binary two.Gt kind.Signed (c.Temp 0) (c.Temp 1))) (c.Then (c.Return (Some (c.Temp 2))) c.End)) }) (s.Then 1 (s.Set ([]) ((record { lines = ((line.Comb (((pos 1), 0) ∷ ((pos 1), 4) ∷ [])) ∷ []) }) ∷ (record { lines = ((line.Comb (((pos 1), 1) ∷ ((pos 1), 4) ∷ [])) ∷ []) }) ∷ (record { lines = ((line.Comb (((pos 1), 2) ∷ ((pos 1), 4) ∷ [])) ∷ []) }) ∷ (record { lines = ((line.Comb (((pos 1), 3) ∷ ((pos 1), 4) ∷ [])) ∷ []) }) ∷ [])) s.NoBlock (s.Then 2 (s.Return ([]) ([]) ([])) s.NoBlock s.End)) ≡ (RefusedAt 2 9 3)
unfolding computing
conditions_78 = refl

conditions_79 : body_verdict (record { predicates = ([]); specs = ((record { is_void = false; name = name_f; params = (name_p ∷ name_q ∷ []); vars = ((name_a, sort.Int) ∷ (name_b, sort.Int) ∷ []); pre = (record { opened = []; facts = ((Rel relation.Le (Of2 binary.Sub (Number (pos 0)) (Number (pos 5))) (Var 0 sort.Int)) ∷ (Rel relation.Le (Var 0 sort.Int) (Number (pos 9))) ∷ (Rel relation.Le (Of2 binary.Sub (Number (pos 0)) (Number (pos 5))) (Var 1 sort.Int)) ∷ (Rel relation.Le (Var 1 sort.Int) (Number (pos 9))) ∷ []); locals = ((name_p, (Of unary.Vi (Var 0 sort.Int))) ∷ (name_q, (Of unary.Vi (Var 1 sort.Int))) ∷ []); items = ([]) }); post = (record { opened = []; facts = ([]); locals = []; items = ([]) }) }) ∷ []) }) (record { is_void = false; name = name_f; params = (name_p ∷ name_q ∷ []); vars = ((name_a, sort.Int) ∷ (name_b, sort.Int) ∷ []); pre = (record { opened = []; facts = ((Rel relation.Le (Of2 binary.Sub (Number (pos 0)) (Number (pos 5))) (Var 0 sort.Int)) ∷ (Rel relation.Le (Var 0 sort.Int) (Number (pos 9))) ∷ (Rel relation.Le (Of2 binary.Sub (Number (pos 0)) (Number (pos 5))) (Var 1 sort.Int)) ∷ (Rel relation.Le (Var 1 sort.Int) (Number (pos 9))) ∷ []); locals = ((name_p, (Of unary.Vi (Var 0 sort.Int))) ∷ (name_q, (Of unary.Vi (Var 1 sort.Int))) ∷ []); items = ([]) }); post = (record { opened = []; facts = ([]); locals = []; items = ([]) }) }) (record { temps = (name_p ∷ name_q ∷ []); body = (c.Then (c.If (c.Nonzero kind.Signed (c.Binary two.Gt kind.Signed (c.Temp 0) (c.Temp 1))) (c.Then (c.Return (Some (c.Const 0))) c.End) c.End) (c.Then (c.Return (Some (c.Const 1))) c.End)) }) (s.Then 1 (s.If ([]) ((record { lines = ((line.Comb (((pos 1), 0) ∷ ((pos 1), 4) ∷ [])) ∷ []) }) ∷ (record { lines = ((line.Comb (((pos 1), 1) ∷ ((pos 1), 4) ∷ [])) ∷ []) }) ∷ (record { lines = ((line.Comb (((pos 1), 2) ∷ ((pos 1), 4) ∷ [])) ∷ []) }) ∷ (record { lines = ((line.Comb (((pos 1), 3) ∷ ((pos 1), 4) ∷ [])) ∷ []) }) ∷ []) ([]) ([])) (s.WithBlock (s.Then 2 (s.Have (Rel relation.Lt (Named name_a) (Named name_b)) ([])) s.NoBlock (s.Then 3 (s.Return ([]) ([]) ([])) s.NoBlock s.End)) (s.WithBlock (s.Then 4 (s.Have (Rel relation.Le (Named name_b) (Named name_a)) ([])) s.NoBlock (s.Then 5 (s.Return ([]) ([]) ([])) s.NoBlock s.End)) s.NoBlock)) s.End) ≡ (RefusedAt 2 25 3)
unfolding computing
conditions_79 = refl

conditions_80 : body_verdict (record { predicates = ([]); specs = ((record { is_void = false; name = name_f; params = (name_p ∷ name_q ∷ []); vars = ((name_a, sort.Int) ∷ (name_b, sort.Int) ∷ []); pre = (record { opened = []; facts = ((Rel relation.Le (Of2 binary.Sub (Number (pos 0)) (Number (pos 5))) (Var 0 sort.Int)) ∷ (Rel relation.Le (Var 0 sort.Int) (Number (pos 9))) ∷ (Rel relation.Le (Of2 binary.Sub (Number (pos 0)) (Number (pos 5))) (Var 1 sort.Int)) ∷ (Rel relation.Le (Var 1 sort.Int) (Number (pos 9))) ∷ []); locals = ((name_p, (Of unary.Vi (Var 0 sort.Int))) ∷ (name_q, (Of unary.Vi (Var 1 sort.Int))) ∷ []); items = ([]) }); post = (record { opened = []; facts = ([]); locals = []; items = ([]) }) }) ∷ []) }) (record { is_void = false; name = name_f; params = (name_p ∷ name_q ∷ []); vars = ((name_a, sort.Int) ∷ (name_b, sort.Int) ∷ []); pre = (record { opened = []; facts = ((Rel relation.Le (Of2 binary.Sub (Number (pos 0)) (Number (pos 5))) (Var 0 sort.Int)) ∷ (Rel relation.Le (Var 0 sort.Int) (Number (pos 9))) ∷ (Rel relation.Le (Of2 binary.Sub (Number (pos 0)) (Number (pos 5))) (Var 1 sort.Int)) ∷ (Rel relation.Le (Var 1 sort.Int) (Number (pos 9))) ∷ []); locals = ((name_p, (Of unary.Vi (Var 0 sort.Int))) ∷ (name_q, (Of unary.Vi (Var 1 sort.Int))) ∷ []); items = ([]) }); post = (record { opened = []; facts = ([]); locals = []; items = ([]) }) }) (record { temps = (name_p ∷ name_q ∷ []); body = (c.Then (c.If (c.Nonzero kind.Signed (c.Binary two.Gt kind.Signed (c.Temp 0) (c.Temp 1))) (c.Then (c.Return (Some (c.Const 0))) c.End) c.End) (c.Then (c.Return (Some (c.Const 1))) c.End)) }) (s.Then 1 (s.If ([]) ((record { lines = ((line.Comb (((pos 1), 0) ∷ ((pos 1), 4) ∷ [])) ∷ []) }) ∷ (record { lines = ((line.Comb (((pos 1), 1) ∷ ((pos 1), 4) ∷ [])) ∷ []) }) ∷ (record { lines = ((line.Comb (((pos 1), 2) ∷ ((pos 1), 4) ∷ [])) ∷ []) }) ∷ (record { lines = ((line.Comb (((pos 1), 3) ∷ ((pos 1), 4) ∷ [])) ∷ []) }) ∷ []) ([]) ([])) (s.WithBlock (s.Then 2 (s.Have (Rel relation.Le (Named name_a) (Named name_b)) ([])) s.NoBlock (s.Then 3 (s.Return ([]) ([]) ([])) s.NoBlock s.End)) (s.WithBlock (s.Then 4 (s.Have (Rel relation.Lt (Named name_b) (Named name_a)) ([])) s.NoBlock (s.Then 5 (s.Return ([]) ([]) ([])) s.NoBlock s.End)) s.NoBlock)) s.End) ≡ (RefusedAt 2 25 3)
unfolding computing
conditions_80 = refl

conditions_81 : body_verdict (record { predicates = ([]); specs = ((record { is_void = false; name = name_f; params = (name_p ∷ name_q ∷ []); vars = ((name_a, sort.Int) ∷ (name_b, sort.Int) ∷ []); pre = (record { opened = []; facts = ((Rel relation.Le (Of2 binary.Sub (Number (pos 0)) (Number (pos 5))) (Var 0 sort.Int)) ∷ (Rel relation.Le (Var 0 sort.Int) (Number (pos 9))) ∷ (Rel relation.Le (Of2 binary.Sub (Number (pos 0)) (Number (pos 5))) (Var 1 sort.Int)) ∷ (Rel relation.Le (Var 1 sort.Int) (Number (pos 9))) ∷ []); locals = ((name_p, (Of unary.Vi (Var 0 sort.Int))) ∷ (name_q, (Of unary.Vi (Var 1 sort.Int))) ∷ []); items = ([]) }); post = (record { opened = []; facts = ([]); locals = []; items = ([]) }) }) ∷ []) }) (record { is_void = false; name = name_f; params = (name_p ∷ name_q ∷ []); vars = ((name_a, sort.Int) ∷ (name_b, sort.Int) ∷ []); pre = (record { opened = []; facts = ((Rel relation.Le (Of2 binary.Sub (Number (pos 0)) (Number (pos 5))) (Var 0 sort.Int)) ∷ (Rel relation.Le (Var 0 sort.Int) (Number (pos 9))) ∷ (Rel relation.Le (Of2 binary.Sub (Number (pos 0)) (Number (pos 5))) (Var 1 sort.Int)) ∷ (Rel relation.Le (Var 1 sort.Int) (Number (pos 9))) ∷ []); locals = ((name_p, (Of unary.Vi (Var 0 sort.Int))) ∷ (name_q, (Of unary.Vi (Var 1 sort.Int))) ∷ []); items = ([]) }); post = (record { opened = []; facts = ([]); locals = []; items = ([]) }) }) (record { temps = (name_p ∷ name_q ∷ []); body = (c.Then (c.If (c.Nonzero kind.Signed (c.Binary two.Gt kind.Signed (c.Temp 0) (c.Temp 1))) (c.Then (c.Return (Some (c.Const 0))) c.End) c.End) (c.Then (c.Return (Some (c.Const 1))) c.End)) }) (s.Then 1 (s.If ([]) ((record { lines = ((line.Comb (((pos 1), 0) ∷ ((pos 1), 4) ∷ [])) ∷ []) }) ∷ (record { lines = ((line.Comb (((pos 1), 1) ∷ ((pos 1), 4) ∷ [])) ∷ []) }) ∷ (record { lines = ((line.Comb (((pos 1), 2) ∷ ((pos 1), 4) ∷ [])) ∷ []) }) ∷ (record { lines = ((line.Comb (((pos 1), 3) ∷ ((pos 1), 4) ∷ [])) ∷ []) }) ∷ []) ([]) ([])) (s.WithBlock (s.Then 2 (s.Have (Rel relation.Eq (Named name_a) (Named name_b)) ([])) s.NoBlock (s.Then 3 (s.Return ([]) ([]) ([])) s.NoBlock s.End)) (s.WithBlock (s.Then 4 (s.Have (Rel relation.Ne (Named name_a) (Named name_b)) ([])) s.NoBlock (s.Then 5 (s.Return ([]) ([]) ([])) s.NoBlock s.End)) s.NoBlock)) s.End) ≡ (RefusedAt 2 25 3)
unfolding computing
conditions_81 = refl

conditions_82 : body_verdict (record { predicates = ([]); specs = ((record { is_void = false; name = name_f; params = (name_p ∷ name_q ∷ []); vars = ((name_a, sort.Int) ∷ (name_b, sort.Int) ∷ []); pre = (record { opened = []; facts = ((Rel relation.Le (Of2 binary.Sub (Number (pos 0)) (Number (pos 5))) (Var 0 sort.Int)) ∷ (Rel relation.Le (Var 0 sort.Int) (Number (pos 9))) ∷ (Rel relation.Le (Of2 binary.Sub (Number (pos 0)) (Number (pos 5))) (Var 1 sort.Int)) ∷ (Rel relation.Le (Var 1 sort.Int) (Number (pos 9))) ∷ []); locals = ((name_p, (Of unary.Vi (Var 0 sort.Int))) ∷ (name_q, (Of unary.Vi (Var 1 sort.Int))) ∷ []); items = ([]) }); post = (record { opened = []; facts = ([]); locals = []; items = ([]) }) }) ∷ []) }) (record { is_void = false; name = name_f; params = (name_p ∷ name_q ∷ []); vars = ((name_a, sort.Int) ∷ (name_b, sort.Int) ∷ []); pre = (record { opened = []; facts = ((Rel relation.Le (Of2 binary.Sub (Number (pos 0)) (Number (pos 5))) (Var 0 sort.Int)) ∷ (Rel relation.Le (Var 0 sort.Int) (Number (pos 9))) ∷ (Rel relation.Le (Of2 binary.Sub (Number (pos 0)) (Number (pos 5))) (Var 1 sort.Int)) ∷ (Rel relation.Le (Var 1 sort.Int) (Number (pos 9))) ∷ []); locals = ((name_p, (Of unary.Vi (Var 0 sort.Int))) ∷ (name_q, (Of unary.Vi (Var 1 sort.Int))) ∷ []); items = ([]) }); post = (record { opened = []; facts = ([]); locals = []; items = ([]) }) }) (record { temps = (name_p ∷ name_q ∷ []); body = (c.Then (c.If (c.Nonzero kind.Signed (c.Binary two.Gt kind.Signed (c.Temp 0) (c.Temp 1))) (c.Then (c.Return (Some (c.Const 0))) c.End) c.End) (c.Then (c.Return (Some (c.Const 1))) c.End)) }) (s.Then 1 (s.If ([]) ((record { lines = ((line.Comb (((pos 1), 0) ∷ ((pos 1), 4) ∷ [])) ∷ []) }) ∷ (record { lines = ((line.Comb (((pos 1), 1) ∷ ((pos 1), 4) ∷ [])) ∷ []) }) ∷ (record { lines = ((line.Comb (((pos 1), 2) ∷ ((pos 1), 4) ∷ [])) ∷ []) }) ∷ (record { lines = ((line.Comb (((pos 1), 3) ∷ ((pos 1), 4) ∷ [])) ∷ []) }) ∷ []) ([]) ([])) (s.WithBlock (s.Then 2 (s.Have (Rel relation.Ne (Named name_a) (Named name_b)) ([])) s.NoBlock (s.Then 3 (s.Return ([]) ([]) ([])) s.NoBlock s.End)) (s.WithBlock (s.Then 4 (s.Have (Rel relation.Eq (Named name_b) (Named name_a)) ([])) s.NoBlock (s.Then 5 (s.Return ([]) ([]) ([])) s.NoBlock s.End)) s.NoBlock)) s.End) ≡ (RefusedAt 2 25 3)
unfolding computing
conditions_82 = refl

conditions_83 : body_verdict (record { predicates = ([]); specs = ((record { is_void = false; name = name_f; params = (name_p ∷ name_q ∷ []); vars = ((name_a, sort.Int) ∷ (name_b, sort.Int) ∷ []); pre = (record { opened = []; facts = ((Rel relation.Le (Number (pos 0)) (Var 0 sort.Int)) ∷ (Rel relation.Le (Var 0 sort.Int) (Number (pos 9))) ∷ (Rel relation.Le (Number (pos 0)) (Var 1 sort.Int)) ∷ (Rel relation.Le (Var 1 sort.Int) (Number (pos 9))) ∷ []); locals = ((name_p, (Of unary.Vi (Var 0 sort.Int))) ∷ (name_q, (Of unary.Vi (Var 1 sort.Int))) ∷ []); items = ([]) }); post = (record { opened = []; facts = ([]); locals = []; items = ([]) }) }) ∷ []) }) (record { is_void = false; name = name_f; params = (name_p ∷ name_q ∷ []); vars = ((name_a, sort.Int) ∷ (name_b, sort.Int) ∷ []); pre = (record { opened = []; facts = ((Rel relation.Le (Number (pos 0)) (Var 0 sort.Int)) ∷ (Rel relation.Le (Var 0 sort.Int) (Number (pos 9))) ∷ (Rel relation.Le (Number (pos 0)) (Var 1 sort.Int)) ∷ (Rel relation.Le (Var 1 sort.Int) (Number (pos 9))) ∷ []); locals = ((name_p, (Of unary.Vi (Var 0 sort.Int))) ∷ (name_q, (Of unary.Vi (Var 1 sort.Int))) ∷ []); items = ([]) }); post = (record { opened = []; facts = ([]); locals = []; items = ([]) }) }) (record { temps = (name_p ∷ name_q ∷ name_t ∷ []); body = (c.Then (c.Set 2 (c.Binary two.Ge kind.Signed (c.Temp 0) (c.Temp 1))) (c.Then (c.Return (Some (c.Const 0))) c.End)) }) (s.Then 1 (s.Set ([]) ([])) s.NoBlock (s.Then 2 (s.Return ([]) ([]) ([])) s.NoBlock s.End)) ≡ (RefusedAt 1 2 3)
unfolding computing
conditions_83 = refl

conditions_84 : body_verdict (record { predicates = ([]); specs = ((record { is_void = false; name = name_f; params = (name_p ∷ name_q ∷ []); vars = ((name_a, sort.Int) ∷ (name_b, sort.Int) ∷ []); pre = (record { opened = []; facts = ((Rel relation.Le (Number (pos 0)) (Var 0 sort.Int)) ∷ (Rel relation.Le (Var 0 sort.Int) (Number (pos 9))) ∷ (Rel relation.Le (Number (pos 0)) (Var 1 sort.Int)) ∷ (Rel relation.Le (Var 1 sort.Int) (Number (pos 9))) ∷ []); locals = ((name_p, (Of unary.Vi (Var 0 sort.Int))) ∷ (name_q, (Of unary.Vi (Var 1 sort.Int))) ∷ []); items = ([]) }); post = (record { opened = []; facts = ([]); locals = []; items = ([]) }) }) ∷ []) }) (record { is_void = false; name = name_f; params = (name_p ∷ name_q ∷ []); vars = ((name_a, sort.Int) ∷ (name_b, sort.Int) ∷ []); pre = (record { opened = []; facts = ((Rel relation.Le (Number (pos 0)) (Var 0 sort.Int)) ∷ (Rel relation.Le (Var 0 sort.Int) (Number (pos 9))) ∷ (Rel relation.Le (Number (pos 0)) (Var 1 sort.Int)) ∷ (Rel relation.Le (Var 1 sort.Int) (Number (pos 9))) ∷ []); locals = ((name_p, (Of unary.Vi (Var 0 sort.Int))) ∷ (name_q, (Of unary.Vi (Var 1 sort.Int))) ∷ []); items = ([]) }); post = (record { opened = []; facts = ([]); locals = []; items = ([]) }) }) (record { temps = (name_p ∷ name_q ∷ name_t ∷ []); body = (c.Then (c.Set 2 (c.Binary two.Ge kind.Signed (c.Temp 0) (c.Temp 1))) (c.Then (c.Return (Some (c.Const 0))) c.End)) }) (s.Then 1 (s.Set ([]) ((record { lines = ((line.Comb (((pos 1), 0) ∷ ((pos 1), 4) ∷ [])) ∷ []) }) ∷ (record { lines = ((line.Comb (((pos 1), 1) ∷ ((pos 1), 4) ∷ [])) ∷ []) }) ∷ (record { lines = ((line.Comb (((pos 1), 2) ∷ ((pos 1), 4) ∷ [])) ∷ []) }) ∷ (record { lines = ((line.Comb (((pos 1), 3) ∷ ((pos 1), 4) ∷ [])) ∷ []) }) ∷ [])) s.NoBlock (s.Then 2 (s.Return ([]) ([]) ([])) s.NoBlock s.End)) ≡ Accepted
unfolding computing
conditions_84 = refl

conditions_85 : body_verdict (record { predicates = ([]); specs = ((record { is_void = false; name = name_f; params = (name_p ∷ name_q ∷ []); vars = ((name_a, sort.Int) ∷ (name_b, sort.Int) ∷ []); pre = (record { opened = []; facts = ((Rel relation.Le (Number (pos 0)) (Var 0 sort.Int)) ∷ (Rel relation.Le (Var 0 sort.Int) (Number (pos 9))) ∷ (Rel relation.Le (Number (pos 0)) (Var 1 sort.Int)) ∷ (Rel relation.Le (Var 1 sort.Int) (Number (pos 9))) ∷ []); locals = ((name_p, (Of unary.Vi (Var 0 sort.Int))) ∷ (name_q, (Of unary.Vi (Var 1 sort.Int))) ∷ []); items = ([]) }); post = (record { opened = []; facts = ((Rel relation.Eq (Var 2 sort.Val) (Of unary.Vi (Of2 binary.Lt (Var 0 sort.Int) (Var 1 sort.Int)))) ∷ []); locals = []; items = ([]) }) }) ∷ []) }) (record { is_void = false; name = name_f; params = (name_p ∷ name_q ∷ []); vars = ((name_a, sort.Int) ∷ (name_b, sort.Int) ∷ []); pre = (record { opened = []; facts = ((Rel relation.Le (Number (pos 0)) (Var 0 sort.Int)) ∷ (Rel relation.Le (Var 0 sort.Int) (Number (pos 9))) ∷ (Rel relation.Le (Number (pos 0)) (Var 1 sort.Int)) ∷ (Rel relation.Le (Var 1 sort.Int) (Number (pos 9))) ∷ []); locals = ((name_p, (Of unary.Vi (Var 0 sort.Int))) ∷ (name_q, (Of unary.Vi (Var 1 sort.Int))) ∷ []); items = ([]) }); post = (record { opened = []; facts = ((Rel relation.Eq (Var 2 sort.Val) (Of unary.Vi (Of2 binary.Lt (Var 0 sort.Int) (Var 1 sort.Int)))) ∷ []); locals = []; items = ([]) }) }) (record { temps = (name_p ∷ name_q ∷ name_t ∷ []); body = (c.Then (c.Set 2 (c.Binary two.Ge kind.Signed (c.Temp 0) (c.Temp 1))) (c.Then (c.Return (Some (c.Temp 2))) c.End)) }) (s.Then 1 (s.Set ([]) ((record { lines = ((line.Comb (((pos 1), 0) ∷ ((pos 1), 4) ∷ [])) ∷ []) }) ∷ (record { lines = ((line.Comb (((pos 1), 1) ∷ ((pos 1), 4) ∷ [])) ∷ []) }) ∷ (record { lines = ((line.Comb (((pos 1), 2) ∷ ((pos 1), 4) ∷ [])) ∷ []) }) ∷ (record { lines = ((line.Comb (((pos 1), 3) ∷ ((pos 1), 4) ∷ [])) ∷ []) }) ∷ [])) s.NoBlock (s.Then 2 (s.Return ([]) ([]) ([])) s.NoBlock s.End)) ≡ (RefusedAt 2 9 3)
unfolding computing
conditions_85 = refl

conditions_86 : body_verdict (record { predicates = ([]); specs = ((record { is_void = false; name = name_f; params = (name_p ∷ name_q ∷ []); vars = ((name_a, sort.Int) ∷ (name_b, sort.Int) ∷ []); pre = (record { opened = []; facts = ((Rel relation.Le (Number (pos 0)) (Var 0 sort.Int)) ∷ (Rel relation.Le (Var 0 sort.Int) (Number (pos 9))) ∷ (Rel relation.Le (Number (pos 0)) (Var 1 sort.Int)) ∷ (Rel relation.Le (Var 1 sort.Int) (Number (pos 9))) ∷ []); locals = ((name_p, (Of unary.Vi (Var 0 sort.Int))) ∷ (name_q, (Of unary.Vi (Var 1 sort.Int))) ∷ []); items = ([]) }); post = (record { opened = []; facts = ((Rel relation.Eq (Var 2 sort.Val) (Of unary.Vi (Of2 binary.Le (Var 0 sort.Int) (Var 1 sort.Int)))) ∷ []); locals = []; items = ([]) }) }) ∷ []) }) (record { is_void = false; name = name_f; params = (name_p ∷ name_q ∷ []); vars = ((name_a, sort.Int) ∷ (name_b, sort.Int) ∷ []); pre = (record { opened = []; facts = ((Rel relation.Le (Number (pos 0)) (Var 0 sort.Int)) ∷ (Rel relation.Le (Var 0 sort.Int) (Number (pos 9))) ∷ (Rel relation.Le (Number (pos 0)) (Var 1 sort.Int)) ∷ (Rel relation.Le (Var 1 sort.Int) (Number (pos 9))) ∷ []); locals = ((name_p, (Of unary.Vi (Var 0 sort.Int))) ∷ (name_q, (Of unary.Vi (Var 1 sort.Int))) ∷ []); items = ([]) }); post = (record { opened = []; facts = ((Rel relation.Eq (Var 2 sort.Val) (Of unary.Vi (Of2 binary.Le (Var 0 sort.Int) (Var 1 sort.Int)))) ∷ []); locals = []; items = ([]) }) }) (record { temps = (name_p ∷ name_q ∷ name_t ∷ []); body = (c.Then (c.Set 2 (c.Binary two.Ge kind.Signed (c.Temp 0) (c.Temp 1))) (c.Then (c.Return (Some (c.Temp 2))) c.End)) }) (s.Then 1 (s.Set ([]) ((record { lines = ((line.Comb (((pos 1), 0) ∷ ((pos 1), 4) ∷ [])) ∷ []) }) ∷ (record { lines = ((line.Comb (((pos 1), 1) ∷ ((pos 1), 4) ∷ [])) ∷ []) }) ∷ (record { lines = ((line.Comb (((pos 1), 2) ∷ ((pos 1), 4) ∷ [])) ∷ []) }) ∷ (record { lines = ((line.Comb (((pos 1), 3) ∷ ((pos 1), 4) ∷ [])) ∷ []) }) ∷ [])) s.NoBlock (s.Then 2 (s.Return ([]) ([]) ([])) s.NoBlock s.End)) ≡ (RefusedAt 2 9 3)
unfolding computing
conditions_86 = refl

conditions_87 : body_verdict (record { predicates = ([]); specs = ((record { is_void = false; name = name_f; params = (name_p ∷ name_q ∷ []); vars = ((name_a, sort.Int) ∷ (name_b, sort.Int) ∷ []); pre = (record { opened = []; facts = ((Rel relation.Le (Of2 binary.Sub (Number (pos 0)) (Number (pos 5))) (Var 0 sort.Int)) ∷ (Rel relation.Le (Var 0 sort.Int) (Number (pos 9))) ∷ (Rel relation.Le (Of2 binary.Sub (Number (pos 0)) (Number (pos 5))) (Var 1 sort.Int)) ∷ (Rel relation.Le (Var 1 sort.Int) (Number (pos 9))) ∷ []); locals = ((name_p, (Of unary.Vi (Var 0 sort.Int))) ∷ (name_q, (Of unary.Vi (Var 1 sort.Int))) ∷ []); items = ([]) }); post = (record { opened = []; facts = ([]); locals = []; items = ([]) }) }) ∷ []) }) (record { is_void = false; name = name_f; params = (name_p ∷ name_q ∷ []); vars = ((name_a, sort.Int) ∷ (name_b, sort.Int) ∷ []); pre = (record { opened = []; facts = ((Rel relation.Le (Of2 binary.Sub (Number (pos 0)) (Number (pos 5))) (Var 0 sort.Int)) ∷ (Rel relation.Le (Var 0 sort.Int) (Number (pos 9))) ∷ (Rel relation.Le (Of2 binary.Sub (Number (pos 0)) (Number (pos 5))) (Var 1 sort.Int)) ∷ (Rel relation.Le (Var 1 sort.Int) (Number (pos 9))) ∷ []); locals = ((name_p, (Of unary.Vi (Var 0 sort.Int))) ∷ (name_q, (Of unary.Vi (Var 1 sort.Int))) ∷ []); items = ([]) }); post = (record { opened = []; facts = ([]); locals = []; items = ([]) }) }) (record { temps = (name_p ∷ name_q ∷ []); body = (c.Then (c.If (c.Nonzero kind.Signed (c.Binary two.Ge kind.Signed (c.Temp 0) (c.Temp 1))) (c.Then (c.Return (Some (c.Const 0))) c.End) c.End) (c.Then (c.Return (Some (c.Const 1))) c.End)) }) (s.Then 1 (s.If ([]) ((record { lines = ((line.Comb (((pos 1), 0) ∷ ((pos 1), 4) ∷ [])) ∷ []) }) ∷ (record { lines = ((line.Comb (((pos 1), 1) ∷ ((pos 1), 4) ∷ [])) ∷ []) }) ∷ (record { lines = ((line.Comb (((pos 1), 2) ∷ ((pos 1), 4) ∷ [])) ∷ []) }) ∷ (record { lines = ((line.Comb (((pos 1), 3) ∷ ((pos 1), 4) ∷ [])) ∷ []) }) ∷ []) ([]) ([])) (s.WithBlock (s.Then 2 (s.Have (Rel relation.Lt (Named name_a) (Named name_b)) ([])) s.NoBlock (s.Then 3 (s.Return ([]) ([]) ([])) s.NoBlock s.End)) (s.WithBlock (s.Then 4 (s.Have (Rel relation.Le (Named name_b) (Named name_a)) ([])) s.NoBlock (s.Then 5 (s.Return ([]) ([]) ([])) s.NoBlock s.End)) s.NoBlock)) s.End) ≡ (RefusedAt 2 25 3)
unfolding computing
conditions_87 = refl

conditions_88 : body_verdict (record { predicates = ([]); specs = ((record { is_void = false; name = name_f; params = (name_p ∷ name_q ∷ []); vars = ((name_a, sort.Int) ∷ (name_b, sort.Int) ∷ []); pre = (record { opened = []; facts = ((Rel relation.Le (Of2 binary.Sub (Number (pos 0)) (Number (pos 5))) (Var 0 sort.Int)) ∷ (Rel relation.Le (Var 0 sort.Int) (Number (pos 9))) ∷ (Rel relation.Le (Of2 binary.Sub (Number (pos 0)) (Number (pos 5))) (Var 1 sort.Int)) ∷ (Rel relation.Le (Var 1 sort.Int) (Number (pos 9))) ∷ []); locals = ((name_p, (Of unary.Vi (Var 0 sort.Int))) ∷ (name_q, (Of unary.Vi (Var 1 sort.Int))) ∷ []); items = ([]) }); post = (record { opened = []; facts = ([]); locals = []; items = ([]) }) }) ∷ []) }) (record { is_void = false; name = name_f; params = (name_p ∷ name_q ∷ []); vars = ((name_a, sort.Int) ∷ (name_b, sort.Int) ∷ []); pre = (record { opened = []; facts = ((Rel relation.Le (Of2 binary.Sub (Number (pos 0)) (Number (pos 5))) (Var 0 sort.Int)) ∷ (Rel relation.Le (Var 0 sort.Int) (Number (pos 9))) ∷ (Rel relation.Le (Of2 binary.Sub (Number (pos 0)) (Number (pos 5))) (Var 1 sort.Int)) ∷ (Rel relation.Le (Var 1 sort.Int) (Number (pos 9))) ∷ []); locals = ((name_p, (Of unary.Vi (Var 0 sort.Int))) ∷ (name_q, (Of unary.Vi (Var 1 sort.Int))) ∷ []); items = ([]) }); post = (record { opened = []; facts = ([]); locals = []; items = ([]) }) }) (record { temps = (name_p ∷ name_q ∷ []); body = (c.Then (c.If (c.Nonzero kind.Signed (c.Binary two.Ge kind.Signed (c.Temp 0) (c.Temp 1))) (c.Then (c.Return (Some (c.Const 0))) c.End) c.End) (c.Then (c.Return (Some (c.Const 1))) c.End)) }) (s.Then 1 (s.If ([]) ((record { lines = ((line.Comb (((pos 1), 0) ∷ ((pos 1), 4) ∷ [])) ∷ []) }) ∷ (record { lines = ((line.Comb (((pos 1), 1) ∷ ((pos 1), 4) ∷ [])) ∷ []) }) ∷ (record { lines = ((line.Comb (((pos 1), 2) ∷ ((pos 1), 4) ∷ [])) ∷ []) }) ∷ (record { lines = ((line.Comb (((pos 1), 3) ∷ ((pos 1), 4) ∷ [])) ∷ []) }) ∷ []) ([]) ([])) (s.WithBlock (s.Then 2 (s.Have (Rel relation.Le (Named name_a) (Named name_b)) ([])) s.NoBlock (s.Then 3 (s.Return ([]) ([]) ([])) s.NoBlock s.End)) (s.WithBlock (s.Then 4 (s.Have (Rel relation.Lt (Named name_b) (Named name_a)) ([])) s.NoBlock (s.Then 5 (s.Return ([]) ([]) ([])) s.NoBlock s.End)) s.NoBlock)) s.End) ≡ (RefusedAt 2 25 3)
unfolding computing
conditions_88 = refl

conditions_89 : body_verdict (record { predicates = ([]); specs = ((record { is_void = false; name = name_f; params = (name_p ∷ name_q ∷ []); vars = ((name_a, sort.Int) ∷ (name_b, sort.Int) ∷ []); pre = (record { opened = []; facts = ((Rel relation.Le (Of2 binary.Sub (Number (pos 0)) (Number (pos 5))) (Var 0 sort.Int)) ∷ (Rel relation.Le (Var 0 sort.Int) (Number (pos 9))) ∷ (Rel relation.Le (Of2 binary.Sub (Number (pos 0)) (Number (pos 5))) (Var 1 sort.Int)) ∷ (Rel relation.Le (Var 1 sort.Int) (Number (pos 9))) ∷ []); locals = ((name_p, (Of unary.Vi (Var 0 sort.Int))) ∷ (name_q, (Of unary.Vi (Var 1 sort.Int))) ∷ []); items = ([]) }); post = (record { opened = []; facts = ([]); locals = []; items = ([]) }) }) ∷ []) }) (record { is_void = false; name = name_f; params = (name_p ∷ name_q ∷ []); vars = ((name_a, sort.Int) ∷ (name_b, sort.Int) ∷ []); pre = (record { opened = []; facts = ((Rel relation.Le (Of2 binary.Sub (Number (pos 0)) (Number (pos 5))) (Var 0 sort.Int)) ∷ (Rel relation.Le (Var 0 sort.Int) (Number (pos 9))) ∷ (Rel relation.Le (Of2 binary.Sub (Number (pos 0)) (Number (pos 5))) (Var 1 sort.Int)) ∷ (Rel relation.Le (Var 1 sort.Int) (Number (pos 9))) ∷ []); locals = ((name_p, (Of unary.Vi (Var 0 sort.Int))) ∷ (name_q, (Of unary.Vi (Var 1 sort.Int))) ∷ []); items = ([]) }); post = (record { opened = []; facts = ([]); locals = []; items = ([]) }) }) (record { temps = (name_p ∷ name_q ∷ []); body = (c.Then (c.If (c.Nonzero kind.Signed (c.Binary two.Ge kind.Signed (c.Temp 0) (c.Temp 1))) (c.Then (c.Return (Some (c.Const 0))) c.End) c.End) (c.Then (c.Return (Some (c.Const 1))) c.End)) }) (s.Then 1 (s.If ([]) ((record { lines = ((line.Comb (((pos 1), 0) ∷ ((pos 1), 4) ∷ [])) ∷ []) }) ∷ (record { lines = ((line.Comb (((pos 1), 1) ∷ ((pos 1), 4) ∷ [])) ∷ []) }) ∷ (record { lines = ((line.Comb (((pos 1), 2) ∷ ((pos 1), 4) ∷ [])) ∷ []) }) ∷ (record { lines = ((line.Comb (((pos 1), 3) ∷ ((pos 1), 4) ∷ [])) ∷ []) }) ∷ []) ([]) ([])) (s.WithBlock (s.Then 2 (s.Have (Rel relation.Eq (Named name_a) (Named name_b)) ([])) s.NoBlock (s.Then 3 (s.Return ([]) ([]) ([])) s.NoBlock s.End)) (s.WithBlock (s.Then 4 (s.Have (Rel relation.Ne (Named name_a) (Named name_b)) ([])) s.NoBlock (s.Then 5 (s.Return ([]) ([]) ([])) s.NoBlock s.End)) s.NoBlock)) s.End) ≡ (RefusedAt 2 25 3)
unfolding computing
conditions_89 = refl

conditions_90 : body_verdict (record { predicates = ([]); specs = ((record { is_void = false; name = name_f; params = (name_p ∷ name_q ∷ []); vars = ((name_a, sort.Int) ∷ (name_b, sort.Int) ∷ []); pre = (record { opened = []; facts = ((Rel relation.Le (Of2 binary.Sub (Number (pos 0)) (Number (pos 5))) (Var 0 sort.Int)) ∷ (Rel relation.Le (Var 0 sort.Int) (Number (pos 9))) ∷ (Rel relation.Le (Of2 binary.Sub (Number (pos 0)) (Number (pos 5))) (Var 1 sort.Int)) ∷ (Rel relation.Le (Var 1 sort.Int) (Number (pos 9))) ∷ []); locals = ((name_p, (Of unary.Vi (Var 0 sort.Int))) ∷ (name_q, (Of unary.Vi (Var 1 sort.Int))) ∷ []); items = ([]) }); post = (record { opened = []; facts = ([]); locals = []; items = ([]) }) }) ∷ []) }) (record { is_void = false; name = name_f; params = (name_p ∷ name_q ∷ []); vars = ((name_a, sort.Int) ∷ (name_b, sort.Int) ∷ []); pre = (record { opened = []; facts = ((Rel relation.Le (Of2 binary.Sub (Number (pos 0)) (Number (pos 5))) (Var 0 sort.Int)) ∷ (Rel relation.Le (Var 0 sort.Int) (Number (pos 9))) ∷ (Rel relation.Le (Of2 binary.Sub (Number (pos 0)) (Number (pos 5))) (Var 1 sort.Int)) ∷ (Rel relation.Le (Var 1 sort.Int) (Number (pos 9))) ∷ []); locals = ((name_p, (Of unary.Vi (Var 0 sort.Int))) ∷ (name_q, (Of unary.Vi (Var 1 sort.Int))) ∷ []); items = ([]) }); post = (record { opened = []; facts = ([]); locals = []; items = ([]) }) }) (record { temps = (name_p ∷ name_q ∷ []); body = (c.Then (c.If (c.Nonzero kind.Signed (c.Binary two.Ge kind.Signed (c.Temp 0) (c.Temp 1))) (c.Then (c.Return (Some (c.Const 0))) c.End) c.End) (c.Then (c.Return (Some (c.Const 1))) c.End)) }) (s.Then 1 (s.If ([]) ((record { lines = ((line.Comb (((pos 1), 0) ∷ ((pos 1), 4) ∷ [])) ∷ []) }) ∷ (record { lines = ((line.Comb (((pos 1), 1) ∷ ((pos 1), 4) ∷ [])) ∷ []) }) ∷ (record { lines = ((line.Comb (((pos 1), 2) ∷ ((pos 1), 4) ∷ [])) ∷ []) }) ∷ (record { lines = ((line.Comb (((pos 1), 3) ∷ ((pos 1), 4) ∷ [])) ∷ []) }) ∷ []) ([]) ([])) (s.WithBlock (s.Then 2 (s.Have (Rel relation.Ne (Named name_a) (Named name_b)) ([])) s.NoBlock (s.Then 3 (s.Return ([]) ([]) ([])) s.NoBlock s.End)) (s.WithBlock (s.Then 4 (s.Have (Rel relation.Eq (Named name_b) (Named name_a)) ([])) s.NoBlock (s.Then 5 (s.Return ([]) ([]) ([])) s.NoBlock s.End)) s.NoBlock)) s.End) ≡ (RefusedAt 2 25 3)
unfolding computing
conditions_90 = refl

conditions_91 : body_verdict (record { predicates = ([]); specs = ((record { is_void = false; name = name_f; params = (name_p ∷ name_q ∷ []); vars = ((name_a, sort.Int) ∷ (name_b, sort.Int) ∷ []); pre = (record { opened = []; facts = ((Rel relation.Le (Number (pos 0)) (Var 0 sort.Int)) ∷ (Rel relation.Le (Var 0 sort.Int) (Number (pos 9))) ∷ (Rel relation.Le (Number (pos 0)) (Var 1 sort.Int)) ∷ (Rel relation.Le (Var 1 sort.Int) (Number (pos 9))) ∷ []); locals = ((name_p, (Of unary.Vi (Var 0 sort.Int))) ∷ (name_q, (Of unary.Vi (Var 1 sort.Int))) ∷ []); items = ([]) }); post = (record { opened = []; facts = ([]); locals = []; items = ([]) }) }) ∷ []) }) (record { is_void = false; name = name_f; params = (name_p ∷ name_q ∷ []); vars = ((name_a, sort.Int) ∷ (name_b, sort.Int) ∷ []); pre = (record { opened = []; facts = ((Rel relation.Le (Number (pos 0)) (Var 0 sort.Int)) ∷ (Rel relation.Le (Var 0 sort.Int) (Number (pos 9))) ∷ (Rel relation.Le (Number (pos 0)) (Var 1 sort.Int)) ∷ (Rel relation.Le (Var 1 sort.Int) (Number (pos 9))) ∷ []); locals = ((name_p, (Of unary.Vi (Var 0 sort.Int))) ∷ (name_q, (Of unary.Vi (Var 1 sort.Int))) ∷ []); items = ([]) }); post = (record { opened = []; facts = ([]); locals = []; items = ([]) }) }) (record { temps = (name_p ∷ name_q ∷ name_t ∷ []); body = (c.Then (c.Set 2 (c.Binary two.Eq kind.Signed (c.Temp 0) (c.Temp 1))) (c.Then (c.Return (Some (c.Const 0))) c.End)) }) (s.Then 1 (s.Set ([]) ([])) s.NoBlock (s.Then 2 (s.Return ([]) ([]) ([])) s.NoBlock s.End)) ≡ (RefusedAt 1 2 3)
unfolding computing
conditions_91 = refl

conditions_92 : body_verdict (record { predicates = ([]); specs = ((record { is_void = false; name = name_f; params = (name_p ∷ name_q ∷ []); vars = ((name_a, sort.Int) ∷ (name_b, sort.Int) ∷ []); pre = (record { opened = []; facts = ((Rel relation.Le (Number (pos 0)) (Var 0 sort.Int)) ∷ (Rel relation.Le (Var 0 sort.Int) (Number (pos 9))) ∷ (Rel relation.Le (Number (pos 0)) (Var 1 sort.Int)) ∷ (Rel relation.Le (Var 1 sort.Int) (Number (pos 9))) ∷ []); locals = ((name_p, (Of unary.Vi (Var 0 sort.Int))) ∷ (name_q, (Of unary.Vi (Var 1 sort.Int))) ∷ []); items = ([]) }); post = (record { opened = []; facts = ([]); locals = []; items = ([]) }) }) ∷ []) }) (record { is_void = false; name = name_f; params = (name_p ∷ name_q ∷ []); vars = ((name_a, sort.Int) ∷ (name_b, sort.Int) ∷ []); pre = (record { opened = []; facts = ((Rel relation.Le (Number (pos 0)) (Var 0 sort.Int)) ∷ (Rel relation.Le (Var 0 sort.Int) (Number (pos 9))) ∷ (Rel relation.Le (Number (pos 0)) (Var 1 sort.Int)) ∷ (Rel relation.Le (Var 1 sort.Int) (Number (pos 9))) ∷ []); locals = ((name_p, (Of unary.Vi (Var 0 sort.Int))) ∷ (name_q, (Of unary.Vi (Var 1 sort.Int))) ∷ []); items = ([]) }); post = (record { opened = []; facts = ([]); locals = []; items = ([]) }) }) (record { temps = (name_p ∷ name_q ∷ name_t ∷ []); body = (c.Then (c.Set 2 (c.Binary two.Eq kind.Signed (c.Temp 0) (c.Temp 1))) (c.Then (c.Return (Some (c.Const 0))) c.End)) }) (s.Then 1 (s.Set ([]) ((record { lines = ((line.Comb (((pos 1), 0) ∷ ((pos 1), 4) ∷ [])) ∷ []) }) ∷ (record { lines = ((line.Comb (((pos 1), 1) ∷ ((pos 1), 4) ∷ [])) ∷ []) }) ∷ (record { lines = ((line.Comb (((pos 1), 2) ∷ ((pos 1), 4) ∷ [])) ∷ []) }) ∷ (record { lines = ((line.Comb (((pos 1), 3) ∷ ((pos 1), 4) ∷ [])) ∷ []) }) ∷ [])) s.NoBlock (s.Then 2 (s.Return ([]) ([]) ([])) s.NoBlock s.End)) ≡ Accepted
unfolding computing
conditions_92 = refl

conditions_93 : body_verdict (record { predicates = ([]); specs = ((record { is_void = false; name = name_f; params = (name_p ∷ name_q ∷ []); vars = ((name_a, sort.Int) ∷ (name_b, sort.Int) ∷ []); pre = (record { opened = []; facts = ((Rel relation.Le (Number (pos 0)) (Var 0 sort.Int)) ∷ (Rel relation.Le (Var 0 sort.Int) (Number (pos 9))) ∷ (Rel relation.Le (Number (pos 0)) (Var 1 sort.Int)) ∷ (Rel relation.Le (Var 1 sort.Int) (Number (pos 9))) ∷ []); locals = ((name_p, (Of unary.Vi (Var 0 sort.Int))) ∷ (name_q, (Of unary.Vi (Var 1 sort.Int))) ∷ []); items = ([]) }); post = (record { opened = []; facts = ((Rel relation.Eq (Var 2 sort.Val) (Of unary.Vi (Of2 binary.Lt (Var 0 sort.Int) (Var 1 sort.Int)))) ∷ []); locals = []; items = ([]) }) }) ∷ []) }) (record { is_void = false; name = name_f; params = (name_p ∷ name_q ∷ []); vars = ((name_a, sort.Int) ∷ (name_b, sort.Int) ∷ []); pre = (record { opened = []; facts = ((Rel relation.Le (Number (pos 0)) (Var 0 sort.Int)) ∷ (Rel relation.Le (Var 0 sort.Int) (Number (pos 9))) ∷ (Rel relation.Le (Number (pos 0)) (Var 1 sort.Int)) ∷ (Rel relation.Le (Var 1 sort.Int) (Number (pos 9))) ∷ []); locals = ((name_p, (Of unary.Vi (Var 0 sort.Int))) ∷ (name_q, (Of unary.Vi (Var 1 sort.Int))) ∷ []); items = ([]) }); post = (record { opened = []; facts = ((Rel relation.Eq (Var 2 sort.Val) (Of unary.Vi (Of2 binary.Lt (Var 0 sort.Int) (Var 1 sort.Int)))) ∷ []); locals = []; items = ([]) }) }) (record { temps = (name_p ∷ name_q ∷ name_t ∷ []); body = (c.Then (c.Set 2 (c.Binary two.Eq kind.Signed (c.Temp 0) (c.Temp 1))) (c.Then (c.Return (Some (c.Temp 2))) c.End)) }) (s.Then 1 (s.Set ([]) ((record { lines = ((line.Comb (((pos 1), 0) ∷ ((pos 1), 4) ∷ [])) ∷ []) }) ∷ (record { lines = ((line.Comb (((pos 1), 1) ∷ ((pos 1), 4) ∷ [])) ∷ []) }) ∷ (record { lines = ((line.Comb (((pos 1), 2) ∷ ((pos 1), 4) ∷ [])) ∷ []) }) ∷ (record { lines = ((line.Comb (((pos 1), 3) ∷ ((pos 1), 4) ∷ [])) ∷ []) }) ∷ [])) s.NoBlock (s.Then 2 (s.Return ([]) ([]) ([])) s.NoBlock s.End)) ≡ (RefusedAt 2 9 3)
unfolding computing
conditions_93 = refl

conditions_94 : body_verdict (record { predicates = ([]); specs = ((record { is_void = false; name = name_f; params = (name_p ∷ name_q ∷ []); vars = ((name_a, sort.Int) ∷ (name_b, sort.Int) ∷ []); pre = (record { opened = []; facts = ((Rel relation.Le (Number (pos 0)) (Var 0 sort.Int)) ∷ (Rel relation.Le (Var 0 sort.Int) (Number (pos 9))) ∷ (Rel relation.Le (Number (pos 0)) (Var 1 sort.Int)) ∷ (Rel relation.Le (Var 1 sort.Int) (Number (pos 9))) ∷ []); locals = ((name_p, (Of unary.Vi (Var 0 sort.Int))) ∷ (name_q, (Of unary.Vi (Var 1 sort.Int))) ∷ []); items = ([]) }); post = (record { opened = []; facts = ((Rel relation.Eq (Var 2 sort.Val) (Of unary.Vi (Of2 binary.Le (Var 0 sort.Int) (Var 1 sort.Int)))) ∷ []); locals = []; items = ([]) }) }) ∷ []) }) (record { is_void = false; name = name_f; params = (name_p ∷ name_q ∷ []); vars = ((name_a, sort.Int) ∷ (name_b, sort.Int) ∷ []); pre = (record { opened = []; facts = ((Rel relation.Le (Number (pos 0)) (Var 0 sort.Int)) ∷ (Rel relation.Le (Var 0 sort.Int) (Number (pos 9))) ∷ (Rel relation.Le (Number (pos 0)) (Var 1 sort.Int)) ∷ (Rel relation.Le (Var 1 sort.Int) (Number (pos 9))) ∷ []); locals = ((name_p, (Of unary.Vi (Var 0 sort.Int))) ∷ (name_q, (Of unary.Vi (Var 1 sort.Int))) ∷ []); items = ([]) }); post = (record { opened = []; facts = ((Rel relation.Eq (Var 2 sort.Val) (Of unary.Vi (Of2 binary.Le (Var 0 sort.Int) (Var 1 sort.Int)))) ∷ []); locals = []; items = ([]) }) }) (record { temps = (name_p ∷ name_q ∷ name_t ∷ []); body = (c.Then (c.Set 2 (c.Binary two.Eq kind.Signed (c.Temp 0) (c.Temp 1))) (c.Then (c.Return (Some (c.Temp 2))) c.End)) }) (s.Then 1 (s.Set ([]) ((record { lines = ((line.Comb (((pos 1), 0) ∷ ((pos 1), 4) ∷ [])) ∷ []) }) ∷ (record { lines = ((line.Comb (((pos 1), 1) ∷ ((pos 1), 4) ∷ [])) ∷ []) }) ∷ (record { lines = ((line.Comb (((pos 1), 2) ∷ ((pos 1), 4) ∷ [])) ∷ []) }) ∷ (record { lines = ((line.Comb (((pos 1), 3) ∷ ((pos 1), 4) ∷ [])) ∷ []) }) ∷ [])) s.NoBlock (s.Then 2 (s.Return ([]) ([]) ([])) s.NoBlock s.End)) ≡ (RefusedAt 2 9 3)
unfolding computing
conditions_94 = refl

conditions_95 : body_verdict (record { predicates = ([]); specs = ((record { is_void = false; name = name_f; params = (name_p ∷ name_q ∷ []); vars = ((name_a, sort.Int) ∷ (name_b, sort.Int) ∷ []); pre = (record { opened = []; facts = ((Rel relation.Le (Of2 binary.Sub (Number (pos 0)) (Number (pos 5))) (Var 0 sort.Int)) ∷ (Rel relation.Le (Var 0 sort.Int) (Number (pos 9))) ∷ (Rel relation.Le (Of2 binary.Sub (Number (pos 0)) (Number (pos 5))) (Var 1 sort.Int)) ∷ (Rel relation.Le (Var 1 sort.Int) (Number (pos 9))) ∷ []); locals = ((name_p, (Of unary.Vi (Var 0 sort.Int))) ∷ (name_q, (Of unary.Vi (Var 1 sort.Int))) ∷ []); items = ([]) }); post = (record { opened = []; facts = ([]); locals = []; items = ([]) }) }) ∷ []) }) (record { is_void = false; name = name_f; params = (name_p ∷ name_q ∷ []); vars = ((name_a, sort.Int) ∷ (name_b, sort.Int) ∷ []); pre = (record { opened = []; facts = ((Rel relation.Le (Of2 binary.Sub (Number (pos 0)) (Number (pos 5))) (Var 0 sort.Int)) ∷ (Rel relation.Le (Var 0 sort.Int) (Number (pos 9))) ∷ (Rel relation.Le (Of2 binary.Sub (Number (pos 0)) (Number (pos 5))) (Var 1 sort.Int)) ∷ (Rel relation.Le (Var 1 sort.Int) (Number (pos 9))) ∷ []); locals = ((name_p, (Of unary.Vi (Var 0 sort.Int))) ∷ (name_q, (Of unary.Vi (Var 1 sort.Int))) ∷ []); items = ([]) }); post = (record { opened = []; facts = ([]); locals = []; items = ([]) }) }) (record { temps = (name_p ∷ name_q ∷ []); body = (c.Then (c.If (c.Nonzero kind.Signed (c.Binary two.Eq kind.Signed (c.Temp 0) (c.Temp 1))) (c.Then (c.Return (Some (c.Const 0))) c.End) c.End) (c.Then (c.Return (Some (c.Const 1))) c.End)) }) (s.Then 1 (s.If ([]) ((record { lines = ((line.Comb (((pos 1), 0) ∷ ((pos 1), 4) ∷ [])) ∷ []) }) ∷ (record { lines = ((line.Comb (((pos 1), 1) ∷ ((pos 1), 4) ∷ [])) ∷ []) }) ∷ (record { lines = ((line.Comb (((pos 1), 2) ∷ ((pos 1), 4) ∷ [])) ∷ []) }) ∷ (record { lines = ((line.Comb (((pos 1), 3) ∷ ((pos 1), 4) ∷ [])) ∷ []) }) ∷ []) ([]) ([])) (s.WithBlock (s.Then 2 (s.Have (Rel relation.Lt (Named name_a) (Named name_b)) ([])) s.NoBlock (s.Then 3 (s.Return ([]) ([]) ([])) s.NoBlock s.End)) (s.WithBlock (s.Then 4 (s.Have (Rel relation.Le (Named name_b) (Named name_a)) ([])) s.NoBlock (s.Then 5 (s.Return ([]) ([]) ([])) s.NoBlock s.End)) s.NoBlock)) s.End) ≡ (RefusedAt 2 25 3)
unfolding computing
conditions_95 = refl

conditions_96 : body_verdict (record { predicates = ([]); specs = ((record { is_void = false; name = name_f; params = (name_p ∷ name_q ∷ []); vars = ((name_a, sort.Int) ∷ (name_b, sort.Int) ∷ []); pre = (record { opened = []; facts = ((Rel relation.Le (Of2 binary.Sub (Number (pos 0)) (Number (pos 5))) (Var 0 sort.Int)) ∷ (Rel relation.Le (Var 0 sort.Int) (Number (pos 9))) ∷ (Rel relation.Le (Of2 binary.Sub (Number (pos 0)) (Number (pos 5))) (Var 1 sort.Int)) ∷ (Rel relation.Le (Var 1 sort.Int) (Number (pos 9))) ∷ []); locals = ((name_p, (Of unary.Vi (Var 0 sort.Int))) ∷ (name_q, (Of unary.Vi (Var 1 sort.Int))) ∷ []); items = ([]) }); post = (record { opened = []; facts = ([]); locals = []; items = ([]) }) }) ∷ []) }) (record { is_void = false; name = name_f; params = (name_p ∷ name_q ∷ []); vars = ((name_a, sort.Int) ∷ (name_b, sort.Int) ∷ []); pre = (record { opened = []; facts = ((Rel relation.Le (Of2 binary.Sub (Number (pos 0)) (Number (pos 5))) (Var 0 sort.Int)) ∷ (Rel relation.Le (Var 0 sort.Int) (Number (pos 9))) ∷ (Rel relation.Le (Of2 binary.Sub (Number (pos 0)) (Number (pos 5))) (Var 1 sort.Int)) ∷ (Rel relation.Le (Var 1 sort.Int) (Number (pos 9))) ∷ []); locals = ((name_p, (Of unary.Vi (Var 0 sort.Int))) ∷ (name_q, (Of unary.Vi (Var 1 sort.Int))) ∷ []); items = ([]) }); post = (record { opened = []; facts = ([]); locals = []; items = ([]) }) }) (record { temps = (name_p ∷ name_q ∷ []); body = (c.Then (c.If (c.Nonzero kind.Signed (c.Binary two.Eq kind.Signed (c.Temp 0) (c.Temp 1))) (c.Then (c.Return (Some (c.Const 0))) c.End) c.End) (c.Then (c.Return (Some (c.Const 1))) c.End)) }) (s.Then 1 (s.If ([]) ((record { lines = ((line.Comb (((pos 1), 0) ∷ ((pos 1), 4) ∷ [])) ∷ []) }) ∷ (record { lines = ((line.Comb (((pos 1), 1) ∷ ((pos 1), 4) ∷ [])) ∷ []) }) ∷ (record { lines = ((line.Comb (((pos 1), 2) ∷ ((pos 1), 4) ∷ [])) ∷ []) }) ∷ (record { lines = ((line.Comb (((pos 1), 3) ∷ ((pos 1), 4) ∷ [])) ∷ []) }) ∷ []) ([]) ([])) (s.WithBlock (s.Then 2 (s.Have (Rel relation.Le (Named name_a) (Named name_b)) ([])) s.NoBlock (s.Then 3 (s.Return ([]) ([]) ([])) s.NoBlock s.End)) (s.WithBlock (s.Then 4 (s.Have (Rel relation.Lt (Named name_b) (Named name_a)) ([])) s.NoBlock (s.Then 5 (s.Return ([]) ([]) ([])) s.NoBlock s.End)) s.NoBlock)) s.End) ≡ (RefusedAt 2 25 3)
unfolding computing
conditions_96 = refl

conditions_97 : body_verdict (record { predicates = ([]); specs = ((record { is_void = false; name = name_f; params = (name_p ∷ name_q ∷ []); vars = ((name_a, sort.Int) ∷ (name_b, sort.Int) ∷ []); pre = (record { opened = []; facts = ((Rel relation.Le (Of2 binary.Sub (Number (pos 0)) (Number (pos 5))) (Var 0 sort.Int)) ∷ (Rel relation.Le (Var 0 sort.Int) (Number (pos 9))) ∷ (Rel relation.Le (Of2 binary.Sub (Number (pos 0)) (Number (pos 5))) (Var 1 sort.Int)) ∷ (Rel relation.Le (Var 1 sort.Int) (Number (pos 9))) ∷ []); locals = ((name_p, (Of unary.Vi (Var 0 sort.Int))) ∷ (name_q, (Of unary.Vi (Var 1 sort.Int))) ∷ []); items = ([]) }); post = (record { opened = []; facts = ([]); locals = []; items = ([]) }) }) ∷ []) }) (record { is_void = false; name = name_f; params = (name_p ∷ name_q ∷ []); vars = ((name_a, sort.Int) ∷ (name_b, sort.Int) ∷ []); pre = (record { opened = []; facts = ((Rel relation.Le (Of2 binary.Sub (Number (pos 0)) (Number (pos 5))) (Var 0 sort.Int)) ∷ (Rel relation.Le (Var 0 sort.Int) (Number (pos 9))) ∷ (Rel relation.Le (Of2 binary.Sub (Number (pos 0)) (Number (pos 5))) (Var 1 sort.Int)) ∷ (Rel relation.Le (Var 1 sort.Int) (Number (pos 9))) ∷ []); locals = ((name_p, (Of unary.Vi (Var 0 sort.Int))) ∷ (name_q, (Of unary.Vi (Var 1 sort.Int))) ∷ []); items = ([]) }); post = (record { opened = []; facts = ([]); locals = []; items = ([]) }) }) (record { temps = (name_p ∷ name_q ∷ []); body = (c.Then (c.If (c.Nonzero kind.Signed (c.Binary two.Eq kind.Signed (c.Temp 0) (c.Temp 1))) (c.Then (c.Return (Some (c.Const 0))) c.End) c.End) (c.Then (c.Return (Some (c.Const 1))) c.End)) }) (s.Then 1 (s.If ([]) ((record { lines = ((line.Comb (((pos 1), 0) ∷ ((pos 1), 4) ∷ [])) ∷ []) }) ∷ (record { lines = ((line.Comb (((pos 1), 1) ∷ ((pos 1), 4) ∷ [])) ∷ []) }) ∷ (record { lines = ((line.Comb (((pos 1), 2) ∷ ((pos 1), 4) ∷ [])) ∷ []) }) ∷ (record { lines = ((line.Comb (((pos 1), 3) ∷ ((pos 1), 4) ∷ [])) ∷ []) }) ∷ []) ([]) ([])) (s.WithBlock (s.Then 2 (s.Have (Rel relation.Eq (Named name_a) (Named name_b)) ([])) s.NoBlock (s.Then 3 (s.Return ([]) ([]) ([])) s.NoBlock s.End)) (s.WithBlock (s.Then 4 (s.Have (Rel relation.Ne (Named name_a) (Named name_b)) ([])) s.NoBlock (s.Then 5 (s.Return ([]) ([]) ([])) s.NoBlock s.End)) s.NoBlock)) s.End) ≡ Accepted
unfolding computing
conditions_97 = refl

conditions_98 : body_verdict (record { predicates = ([]); specs = ((record { is_void = false; name = name_f; params = (name_p ∷ name_q ∷ []); vars = ((name_a, sort.Int) ∷ (name_b, sort.Int) ∷ []); pre = (record { opened = []; facts = ((Rel relation.Le (Of2 binary.Sub (Number (pos 0)) (Number (pos 5))) (Var 0 sort.Int)) ∷ (Rel relation.Le (Var 0 sort.Int) (Number (pos 9))) ∷ (Rel relation.Le (Of2 binary.Sub (Number (pos 0)) (Number (pos 5))) (Var 1 sort.Int)) ∷ (Rel relation.Le (Var 1 sort.Int) (Number (pos 9))) ∷ []); locals = ((name_p, (Of unary.Vi (Var 0 sort.Int))) ∷ (name_q, (Of unary.Vi (Var 1 sort.Int))) ∷ []); items = ([]) }); post = (record { opened = []; facts = ([]); locals = []; items = ([]) }) }) ∷ []) }) (record { is_void = false; name = name_f; params = (name_p ∷ name_q ∷ []); vars = ((name_a, sort.Int) ∷ (name_b, sort.Int) ∷ []); pre = (record { opened = []; facts = ((Rel relation.Le (Of2 binary.Sub (Number (pos 0)) (Number (pos 5))) (Var 0 sort.Int)) ∷ (Rel relation.Le (Var 0 sort.Int) (Number (pos 9))) ∷ (Rel relation.Le (Of2 binary.Sub (Number (pos 0)) (Number (pos 5))) (Var 1 sort.Int)) ∷ (Rel relation.Le (Var 1 sort.Int) (Number (pos 9))) ∷ []); locals = ((name_p, (Of unary.Vi (Var 0 sort.Int))) ∷ (name_q, (Of unary.Vi (Var 1 sort.Int))) ∷ []); items = ([]) }); post = (record { opened = []; facts = ([]); locals = []; items = ([]) }) }) (record { temps = (name_p ∷ name_q ∷ []); body = (c.Then (c.If (c.Nonzero kind.Signed (c.Binary two.Eq kind.Signed (c.Temp 0) (c.Temp 1))) (c.Then (c.Return (Some (c.Const 0))) c.End) c.End) (c.Then (c.Return (Some (c.Const 1))) c.End)) }) (s.Then 1 (s.If ([]) ((record { lines = ((line.Comb (((pos 1), 0) ∷ ((pos 1), 4) ∷ [])) ∷ []) }) ∷ (record { lines = ((line.Comb (((pos 1), 1) ∷ ((pos 1), 4) ∷ [])) ∷ []) }) ∷ (record { lines = ((line.Comb (((pos 1), 2) ∷ ((pos 1), 4) ∷ [])) ∷ []) }) ∷ (record { lines = ((line.Comb (((pos 1), 3) ∷ ((pos 1), 4) ∷ [])) ∷ []) }) ∷ []) ([]) ([])) (s.WithBlock (s.Then 2 (s.Have (Rel relation.Ne (Named name_a) (Named name_b)) ([])) s.NoBlock (s.Then 3 (s.Return ([]) ([]) ([])) s.NoBlock s.End)) (s.WithBlock (s.Then 4 (s.Have (Rel relation.Eq (Named name_b) (Named name_a)) ([])) s.NoBlock (s.Then 5 (s.Return ([]) ([]) ([])) s.NoBlock s.End)) s.NoBlock)) s.End) ≡ (RefusedAt 2 25 3)
unfolding computing
conditions_98 = refl

conditions_99 : body_verdict (record { predicates = ([]); specs = ((record { is_void = false; name = name_f; params = (name_p ∷ name_q ∷ []); vars = ((name_a, sort.Int) ∷ (name_b, sort.Int) ∷ []); pre = (record { opened = []; facts = ((Rel relation.Le (Number (pos 0)) (Var 0 sort.Int)) ∷ (Rel relation.Le (Var 0 sort.Int) (Number (pos 9))) ∷ (Rel relation.Le (Number (pos 0)) (Var 1 sort.Int)) ∷ (Rel relation.Le (Var 1 sort.Int) (Number (pos 9))) ∷ []); locals = ((name_p, (Of unary.Vi (Var 0 sort.Int))) ∷ (name_q, (Of unary.Vi (Var 1 sort.Int))) ∷ []); items = ([]) }); post = (record { opened = []; facts = ([]); locals = []; items = ([]) }) }) ∷ []) }) (record { is_void = false; name = name_f; params = (name_p ∷ name_q ∷ []); vars = ((name_a, sort.Int) ∷ (name_b, sort.Int) ∷ []); pre = (record { opened = []; facts = ((Rel relation.Le (Number (pos 0)) (Var 0 sort.Int)) ∷ (Rel relation.Le (Var 0 sort.Int) (Number (pos 9))) ∷ (Rel relation.Le (Number (pos 0)) (Var 1 sort.Int)) ∷ (Rel relation.Le (Var 1 sort.Int) (Number (pos 9))) ∷ []); locals = ((name_p, (Of unary.Vi (Var 0 sort.Int))) ∷ (name_q, (Of unary.Vi (Var 1 sort.Int))) ∷ []); items = ([]) }); post = (record { opened = []; facts = ([]); locals = []; items = ([]) }) }) (record { temps = (name_p ∷ name_q ∷ name_t ∷ []); body = (c.Then (c.Set 2 (c.Binary two.Ne kind.Signed (c.Temp 0) (c.Temp 1))) (c.Then (c.Return (Some (c.Const 0))) c.End)) }) (s.Then 1 (s.Set ([]) ([])) s.NoBlock (s.Then 2 (s.Return ([]) ([]) ([])) s.NoBlock s.End)) ≡ (RefusedAt 1 2 3)
unfolding computing
conditions_99 = refl

conditions_100 : body_verdict (record { predicates = ([]); specs = ((record { is_void = false; name = name_f; params = (name_p ∷ name_q ∷ []); vars = ((name_a, sort.Int) ∷ (name_b, sort.Int) ∷ []); pre = (record { opened = []; facts = ((Rel relation.Le (Number (pos 0)) (Var 0 sort.Int)) ∷ (Rel relation.Le (Var 0 sort.Int) (Number (pos 9))) ∷ (Rel relation.Le (Number (pos 0)) (Var 1 sort.Int)) ∷ (Rel relation.Le (Var 1 sort.Int) (Number (pos 9))) ∷ []); locals = ((name_p, (Of unary.Vi (Var 0 sort.Int))) ∷ (name_q, (Of unary.Vi (Var 1 sort.Int))) ∷ []); items = ([]) }); post = (record { opened = []; facts = ([]); locals = []; items = ([]) }) }) ∷ []) }) (record { is_void = false; name = name_f; params = (name_p ∷ name_q ∷ []); vars = ((name_a, sort.Int) ∷ (name_b, sort.Int) ∷ []); pre = (record { opened = []; facts = ((Rel relation.Le (Number (pos 0)) (Var 0 sort.Int)) ∷ (Rel relation.Le (Var 0 sort.Int) (Number (pos 9))) ∷ (Rel relation.Le (Number (pos 0)) (Var 1 sort.Int)) ∷ (Rel relation.Le (Var 1 sort.Int) (Number (pos 9))) ∷ []); locals = ((name_p, (Of unary.Vi (Var 0 sort.Int))) ∷ (name_q, (Of unary.Vi (Var 1 sort.Int))) ∷ []); items = ([]) }); post = (record { opened = []; facts = ([]); locals = []; items = ([]) }) }) (record { temps = (name_p ∷ name_q ∷ name_t ∷ []); body = (c.Then (c.Set 2 (c.Binary two.Ne kind.Signed (c.Temp 0) (c.Temp 1))) (c.Then (c.Return (Some (c.Const 0))) c.End)) }) (s.Then 1 (s.Set ([]) ((record { lines = ((line.Comb (((pos 1), 0) ∷ ((pos 1), 4) ∷ [])) ∷ []) }) ∷ (record { lines = ((line.Comb (((pos 1), 1) ∷ ((pos 1), 4) ∷ [])) ∷ []) }) ∷ (record { lines = ((line.Comb (((pos 1), 2) ∷ ((pos 1), 4) ∷ [])) ∷ []) }) ∷ (record { lines = ((line.Comb (((pos 1), 3) ∷ ((pos 1), 4) ∷ [])) ∷ []) }) ∷ [])) s.NoBlock (s.Then 2 (s.Return ([]) ([]) ([])) s.NoBlock s.End)) ≡ Accepted
unfolding computing
conditions_100 = refl
