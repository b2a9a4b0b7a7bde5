-- Each condition of each rule, where it holds and where it fails.
use Rattle.std.specs.Prelude.{◌≡◌, refl, pos, [], ◌∷◌, true, false, Some, None}
use Rattle.vd_terms.specs.Terms.{Number, Var, Named, Nil, Of, Of2}
use Rattle.vd_terms.specs.declared.assertion.FactOf.TheVariants.{Rel, IsInt, IsPtr, Each}
use Rattle.vd_terms.specs.declared.assertion.ItemOf.TheVariants.{Data, Pred}
use Rattle.vd_rules.specs.Computing.{computing}
use Rattle.vd_rules.specs.Verdicts.{Accepted, RefusedAt, body_verdict}
use Rattle.vd_terms.specs.declared.operation.Unary.TheVariants as unary
use Rattle.vd_terms.specs.declared.operation.Binary.TheVariants as binary
use Rattle.vd_logic.specs.declared.term.Sort.TheVariants as sort
use Rattle.vd_logic.specs.declared.assertion.Rel.TheVariants as relation
use Rattle.vd_logic.specs.declared.step.CertLine.TheVariants as line
use Rattle.vd_logic.specs.declared.step.Forgotten.TheVariants as forgotten
use Rattle.vd_steps.specs.Code as c
use Rattle.vd_steps.specs.Script as s
use Rattle.vd_examples.specs.Names.{name_A, name_Z, name_f, name_g, name_k, name_m, name_n, name_p, name_q, name_r, name_s, name_t, name_v, name_w, name_x, name_z}

conditions_401 : body_verdict (record { predicates = ([]); specs = ((record { is_void = true; name = name_g; params = (name_q ∷ []); vars = ((name_w, sort.Val) ∷ (name_n, sort.Int) ∷ []); pre = (record { opened = []; facts = ((Rel relation.Le (Number (pos 1)) (Var 1 sort.Int)) ∷ []); locals = ((name_q, (Var 0 sort.Val)) ∷ []); items = ((Data (Number (pos 64)) (Var 0 sort.Val) (Of2 binary.Cons (Of unary.Vi (Var 1 sort.Int)) Nil)) ∷ []) }); post = (record { opened = (sort.Int ∷ []); facts = ((Rel relation.Le (Var 1 sort.Int) (Var 3 sort.Int)) ∷ []); locals = []; items = ((Data (Number (pos 64)) (Var 0 sort.Val) (Of2 binary.Cons (Of unary.Vi (Var 3 sort.Int)) Nil)) ∷ []) }) }) ∷ (record { is_void = true; name = name_f; params = (name_p ∷ []); vars = ((name_v, sort.Val) ∷ []); pre = (record { opened = []; facts = ([]); locals = ((name_p, (Var 0 sort.Val)) ∷ []); items = ((Data (Number (pos 64)) (Var 0 sort.Val) (Of2 binary.Cons (Of unary.Vi (Number (pos 4))) Nil)) ∷ []) }); post = (record { opened = (sort.Int ∷ []); facts = ((Rel relation.Le (Number (pos 4)) (Var 2 sort.Int)) ∷ []); locals = []; items = ((Data (Number (pos 64)) (Var 0 sort.Val) (Of2 binary.Cons (Of unary.Vi (Var 2 sort.Int)) Nil)) ∷ []) }) }) ∷ []) }) (record { is_void = true; name = name_f; params = (name_p ∷ []); vars = ((name_v, sort.Val) ∷ []); pre = (record { opened = []; facts = ([]); locals = ((name_p, (Var 0 sort.Val)) ∷ []); items = ((Data (Number (pos 64)) (Var 0 sort.Val) (Of2 binary.Cons (Of unary.Vi (Number (pos 4))) Nil)) ∷ []) }); post = (record { opened = (sort.Int ∷ []); facts = ((Rel relation.Le (Number (pos 4)) (Var 2 sort.Int)) ∷ []); locals = []; items = ((Data (Number (pos 64)) (Var 0 sort.Val) (Of2 binary.Cons (Of unary.Vi (Var 2 sort.Int)) Nil)) ∷ []) }) }) (record { temps = (name_p ∷ []); body = (c.Then (c.Call None name_g ((c.Temp 0) ∷ [])) (c.Then (c.Return None) c.End)) }) (s.Then 1 (s.Call ((Named name_v) ∷ (Number (pos 4)) ∷ []) ([]) ([]) (name_v ∷ [])) s.NoBlock (s.Then 2 (s.Return ((Number (pos 4)) ∷ []) ([]) ([])) s.NoBlock s.End)) ≡ (RefusedAt 1 13 6)
unfolding computing
conditions_401 = refl

conditions_402 : body_verdict (record { predicates = ([]); specs = ((record { is_void = false; name = name_g; params = (name_q ∷ []); vars = ((name_w, sort.Val) ∷ (name_n, sort.Int) ∷ []); pre = (record { opened = []; facts = ((Rel relation.Le (Number (pos 1)) (Var 1 sort.Int)) ∷ []); locals = ((name_q, (Var 0 sort.Val)) ∷ []); items = ((Data (Number (pos 64)) (Var 0 sort.Val) (Of2 binary.Cons (Of unary.Vi (Var 1 sort.Int)) Nil)) ∷ []) }); post = (record { opened = (sort.Int ∷ []); facts = ((Rel relation.Le (Var 1 sort.Int) (Var 3 sort.Int)) ∷ []); locals = []; items = ((Data (Number (pos 64)) (Var 0 sort.Val) (Of2 binary.Cons (Of unary.Vi (Var 3 sort.Int)) Nil)) ∷ []) }) }) ∷ (record { is_void = true; name = name_f; params = (name_p ∷ []); vars = ((name_v, sort.Val) ∷ []); pre = (record { opened = []; facts = ([]); locals = ((name_p, (Var 0 sort.Val)) ∷ []); items = ((Data (Number (pos 64)) (Var 0 sort.Val) (Of2 binary.Cons (Of unary.Vi (Number (pos 4))) Nil)) ∷ []) }); post = (record { opened = (sort.Int ∷ []); facts = ((Rel relation.Le (Number (pos 4)) (Var 2 sort.Int)) ∷ []); locals = []; items = ((Data (Number (pos 64)) (Var 0 sort.Val) (Of2 binary.Cons (Of unary.Vi (Var 2 sort.Int)) Nil)) ∷ []) }) }) ∷ []) }) (record { is_void = true; name = name_f; params = (name_p ∷ []); vars = ((name_v, sort.Val) ∷ []); pre = (record { opened = []; facts = ([]); locals = ((name_p, (Var 0 sort.Val)) ∷ []); items = ((Data (Number (pos 64)) (Var 0 sort.Val) (Of2 binary.Cons (Of unary.Vi (Number (pos 4))) Nil)) ∷ []) }); post = (record { opened = (sort.Int ∷ []); facts = ((Rel relation.Le (Number (pos 4)) (Var 2 sort.Int)) ∷ []); locals = []; items = ((Data (Number (pos 64)) (Var 0 sort.Val) (Of2 binary.Cons (Of unary.Vi (Var 2 sort.Int)) Nil)) ∷ []) }) }) (record { temps = (name_p ∷ name_t ∷ []); body = (c.Then (c.Call (Some 1) name_g ((c.Temp 0) ∷ [])) (c.Then (c.Return None) c.End)) }) (s.Then 1 (s.Call ((Named name_v) ∷ (Number (pos 4)) ∷ []) ([]) ([]) (name_v ∷ [])) s.NoBlock (s.Then 2 (s.Return ((Number (pos 4)) ∷ []) ([]) ([])) s.NoBlock s.End)) ≡ (RefusedAt 1 13 6)
unfolding computing
conditions_402 = refl

conditions_403 : body_verdict (record { predicates = ([]); specs = ((record { is_void = true; name = name_g; params = (name_q ∷ []); vars = ((name_w, sort.Val) ∷ (name_n, sort.Int) ∷ []); pre = (record { opened = []; facts = ((Rel relation.Le (Number (pos 1)) (Var 1 sort.Int)) ∷ []); locals = ((name_q, (Var 0 sort.Val)) ∷ []); items = ((Data (Number (pos 64)) (Var 0 sort.Val) (Of2 binary.Cons (Of unary.Vi (Var 1 sort.Int)) Nil)) ∷ []) }); post = (record { opened = (sort.Int ∷ []); facts = ((Rel relation.Le (Var 1 sort.Int) (Var 3 sort.Int)) ∷ []); locals = []; items = ((Data (Number (pos 64)) (Var 0 sort.Val) (Of2 binary.Cons (Of unary.Vi (Var 3 sort.Int)) Nil)) ∷ []) }) }) ∷ (record { is_void = true; name = name_f; params = (name_p ∷ []); vars = ((name_v, sort.Val) ∷ []); pre = (record { opened = []; facts = ([]); locals = ((name_p, (Var 0 sort.Val)) ∷ []); items = ((Data (Number (pos 64)) (Var 0 sort.Val) (Of2 binary.Cons (Of unary.Vi (Number (pos 4))) Nil)) ∷ []) }); post = (record { opened = []; facts = ([]); locals = []; items = ([]) }) }) ∷ []) }) (record { is_void = true; name = name_g; params = (name_q ∷ []); vars = ((name_w, sort.Val) ∷ (name_n, sort.Int) ∷ []); pre = (record { opened = []; facts = ((Rel relation.Le (Number (pos 1)) (Var 1 sort.Int)) ∷ []); locals = ((name_q, (Var 0 sort.Val)) ∷ []); items = ((Data (Number (pos 64)) (Var 0 sort.Val) (Of2 binary.Cons (Of unary.Vi (Var 1 sort.Int)) Nil)) ∷ []) }); post = (record { opened = (sort.Int ∷ []); facts = ((Rel relation.Le (Var 1 sort.Int) (Var 3 sort.Int)) ∷ []); locals = []; items = ((Data (Number (pos 64)) (Var 0 sort.Val) (Of2 binary.Cons (Of unary.Vi (Var 3 sort.Int)) Nil)) ∷ []) }) }) (record { temps = (name_q ∷ []); body = (c.Then (c.Return None) c.End) }) (s.Then 1 (s.Return ([]) ([]) ([])) s.NoBlock s.End) ≡ (RefusedAt 1 9 1)
unfolding computing
conditions_403 = refl

conditions_404 : body_verdict (record { predicates = ([]); specs = ((record { is_void = true; name = name_g; params = (name_q ∷ []); vars = ((name_w, sort.Val) ∷ (name_n, sort.Int) ∷ []); pre = (record { opened = []; facts = ((Rel relation.Le (Number (pos 1)) (Var 1 sort.Int)) ∷ []); locals = ((name_q, (Var 0 sort.Val)) ∷ []); items = ((Data (Number (pos 64)) (Var 0 sort.Val) (Of2 binary.Cons (Of unary.Vi (Var 1 sort.Int)) Nil)) ∷ []) }); post = (record { opened = (sort.Int ∷ []); facts = ((Rel relation.Le (Var 1 sort.Int) (Var 3 sort.Int)) ∷ []); locals = []; items = ((Data (Number (pos 64)) (Var 0 sort.Val) (Of2 binary.Cons (Of unary.Vi (Var 3 sort.Int)) Nil)) ∷ []) }) }) ∷ (record { is_void = true; name = name_f; params = (name_p ∷ []); vars = ((name_v, sort.Val) ∷ []); pre = (record { opened = []; facts = ([]); locals = ((name_p, (Var 0 sort.Val)) ∷ []); items = ((Data (Number (pos 64)) (Var 0 sort.Val) (Of2 binary.Cons (Of unary.Vi (Number (pos 4))) Nil)) ∷ []) }); post = (record { opened = (sort.Int ∷ []); facts = ((Rel relation.Le (Number (pos 4)) (Var 2 sort.Int)) ∷ []); locals = []; items = ((Data (Number (pos 64)) (Var 0 sort.Val) (Of2 binary.Cons (Of unary.Vi (Var 2 sort.Int)) Nil)) ∷ []) }) }) ∷ []) }) (record { is_void = true; name = name_f; params = (name_p ∷ []); vars = ((name_v, sort.Val) ∷ []); pre = (record { opened = []; facts = ([]); locals = ((name_p, (Var 0 sort.Val)) ∷ []); items = ((Data (Number (pos 64)) (Var 0 sort.Val) (Of2 binary.Cons (Of unary.Vi (Number (pos 4))) Nil)) ∷ []) }); post = (record { opened = (sort.Int ∷ []); facts = ((Rel relation.Le (Number (pos 4)) (Var 2 sort.Int)) ∷ []); locals = []; items = ((Data (Number (pos 64)) (Var 0 sort.Val) (Of2 binary.Cons (Of unary.Vi (Var 2 sort.Int)) Nil)) ∷ []) }) }) (record { temps = (name_p ∷ []); body = (c.Then (c.Call None name_g ((c.Temp 0) ∷ [])) (c.Then (c.Return None) c.End)) }) (s.Then 1 (s.Call ((Named name_v) ∷ (Number (pos 4)) ∷ []) ([]) ([]) (name_m ∷ name_m ∷ [])) s.NoBlock (s.Then 2 (s.Return ((Named name_m) ∷ []) ([]) ([])) s.NoBlock s.End)) ≡ (RefusedAt 1 13 6)
unfolding computing
conditions_404 = refl

conditions_405 : body_verdict (record { predicates = ([]); specs = ((record { is_void = false; name = name_g; params = (name_q ∷ []); vars = ((name_w, sort.Val) ∷ (name_n, sort.Int) ∷ []); pre = (record { opened = []; facts = ((Rel relation.Le (Number (pos 1)) (Var 1 sort.Int)) ∷ []); locals = ((name_q, (Var 0 sort.Val)) ∷ []); items = ((Data (Number (pos 64)) (Var 0 sort.Val) (Of2 binary.Cons (Of unary.Vi (Var 1 sort.Int)) Nil)) ∷ []) }); post = (record { opened = (sort.Int ∷ []); facts = ((Rel relation.Le (Var 1 sort.Int) (Var 3 sort.Int)) ∷ []); locals = []; items = ((Data (Number (pos 64)) (Var 0 sort.Val) (Of2 binary.Cons (Of unary.Vi (Var 3 sort.Int)) Nil)) ∷ []) }) }) ∷ (record { is_void = true; name = name_f; params = (name_p ∷ []); vars = ((name_v, sort.Val) ∷ []); pre = (record { opened = []; facts = ([]); locals = ((name_p, (Var 0 sort.Val)) ∷ []); items = ((Data (Number (pos 64)) (Var 0 sort.Val) (Of2 binary.Cons (Of unary.Vi (Number (pos 4))) Nil)) ∷ []) }); post = (record { opened = (sort.Int ∷ []); facts = ((Rel relation.Le (Number (pos 4)) (Var 2 sort.Int)) ∷ []); locals = []; items = ((Data (Number (pos 64)) (Var 0 sort.Val) (Of2 binary.Cons (Of unary.Vi (Var 2 sort.Int)) Nil)) ∷ []) }) }) ∷ []) }) (record { is_void = true; name = name_f; params = (name_p ∷ []); vars = ((name_v, sort.Val) ∷ []); pre = (record { opened = []; facts = ([]); locals = ((name_p, (Var 0 sort.Val)) ∷ []); items = ((Data (Number (pos 64)) (Var 0 sort.Val) (Of2 binary.Cons (Of unary.Vi (Number (pos 4))) Nil)) ∷ []) }); post = (record { opened = (sort.Int ∷ []); facts = ((Rel relation.Le (Number (pos 4)) (Var 2 sort.Int)) ∷ []); locals = []; items = ((Data (Number (pos 64)) (Var 0 sort.Val) (Of2 binary.Cons (Of unary.Vi (Var 2 sort.Int)) Nil)) ∷ []) }) }) (record { temps = (name_p ∷ name_t ∷ []); body = (c.Then (c.Call (Some 1) name_g ((c.Temp 0) ∷ [])) (c.Then (c.Return None) c.End)) }) (s.Then 1 (s.Call ((Named name_v) ∷ (Number (pos 4)) ∷ []) ([]) ([]) (name_m ∷ name_m ∷ [])) s.NoBlock (s.Then 2 (s.Return ((Named name_m) ∷ []) ([]) ([])) s.NoBlock s.End)) ≡ (RefusedAt 1 13 6)
unfolding computing
conditions_405 = refl

conditions_406 : body_verdict (record { predicates = ([]); specs = ((record { is_void = false; name = name_g; params = (name_q ∷ []); vars = ((name_w, sort.Val) ∷ (name_n, sort.Int) ∷ []); pre = (record { opened = []; facts = ((Rel relation.Le (Number (pos 1)) (Var 1 sort.Int)) ∷ []); locals = ((name_q, (Var 0 sort.Val)) ∷ []); items = ((Data (Number (pos 64)) (Var 0 sort.Val) (Of2 binary.Cons (Of unary.Vi (Var 1 sort.Int)) Nil)) ∷ []) }); post = (record { opened = (sort.Int ∷ []); facts = ((Rel relation.Le (Var 1 sort.Int) (Var 3 sort.Int)) ∷ []); locals = []; items = ((Data (Number (pos 64)) (Var 0 sort.Val) (Of2 binary.Cons (Of unary.Vi (Var 3 sort.Int)) Nil)) ∷ []) }) }) ∷ (record { is_void = true; name = name_f; params = (name_p ∷ []); vars = ((name_v, sort.Val) ∷ []); pre = (record { opened = []; facts = ([]); locals = ((name_p, (Var 0 sort.Val)) ∷ []); items = ((Data (Number (pos 64)) (Var 0 sort.Val) (Of2 binary.Cons (Of unary.Vi (Number (pos 4))) Nil)) ∷ []) }); post = (record { opened = (sort.Int ∷ []); facts = ((Rel relation.Le (Number (pos 4)) (Var 2 sort.Int)) ∷ []); locals = []; items = ((Data (Number (pos 64)) (Var 0 sort.Val) (Of2 binary.Cons (Of unary.Vi (Var 2 sort.Int)) Nil)) ∷ []) }) }) ∷ []) }) (record { is_void = true; name = name_f; params = (name_p ∷ []); vars = ((name_v, sort.Val) ∷ []); pre = (record { opened = []; facts = ([]); locals = ((name_p, (Var 0 sort.Val)) ∷ []); items = ((Data (Number (pos 64)) (Var 0 sort.Val) (Of2 binary.Cons (Of unary.Vi (Number (pos 4))) Nil)) ∷ []) }); post = (record { opened = (sort.Int ∷ []); facts = ((Rel relation.Le (Number (pos 4)) (Var 2 sort.Int)) ∷ []); locals = []; items = ((Data (Number (pos 64)) (Var 0 sort.Val) (Of2 binary.Cons (Of unary.Vi (Var 2 sort.Int)) Nil)) ∷ []) }) }) (record { temps = (name_p ∷ name_t ∷ []); body = (c.Then (c.Call (Some 1) name_g ((c.Temp 0) ∷ [])) (c.Then (c.Return None) c.End)) }) (s.Then 1 (s.Call ((Named name_v) ∷ (Number (pos 4)) ∷ []) ([]) ([]) (name_z ∷ name_m ∷ name_m ∷ [])) s.NoBlock (s.Then 2 (s.Return ((Named name_m) ∷ []) ([]) ([])) s.NoBlock s.End)) ≡ (RefusedAt 1 13 6)
unfolding computing
conditions_406 = refl

conditions_407 : body_verdict (record { predicates = ([]); specs = ((record { is_void = true; name = name_g; params = (name_q ∷ []); vars = ((name_w, sort.Val) ∷ (name_n, sort.Int) ∷ []); pre = (record { opened = []; facts = ((Rel relation.Le (Number (pos 1)) (Var 1 sort.Int)) ∷ []); locals = ((name_q, (Var 0 sort.Val)) ∷ []); items = ((Data (Number (pos 64)) (Var 0 sort.Val) (Of2 binary.Cons (Of unary.Vi (Var 1 sort.Int)) Nil)) ∷ []) }); post = (record { opened = (sort.Int ∷ []); facts = ((Rel relation.Le (Var 1 sort.Int) (Var 3 sort.Int)) ∷ []); locals = []; items = ((Data (Number (pos 64)) (Var 0 sort.Val) (Of2 binary.Cons (Of unary.Vi (Var 3 sort.Int)) Nil)) ∷ []) }) }) ∷ (record { is_void = true; name = name_f; params = (name_p ∷ []); vars = ((name_v, sort.Val) ∷ []); pre = (record { opened = []; facts = ([]); locals = ((name_p, (Var 0 sort.Val)) ∷ []); items = ((Data (Number (pos 64)) (Var 0 sort.Val) (Of2 binary.Cons (Of unary.Vi (Number (pos 4))) Nil)) ∷ []) }); post = (record { opened = (sort.Int ∷ []); facts = ((Rel relation.Le (Number (pos 4)) (Var 2 sort.Int)) ∷ []); locals = []; items = ((Data (Number (pos 64)) (Var 0 sort.Val) (Of2 binary.Cons (Of unary.Vi (Var 2 sort.Int)) Nil)) ∷ []) }) }) ∷ []) }) (record { is_void = true; name = name_f; params = (name_p ∷ []); vars = ((name_v, sort.Val) ∷ []); pre = (record { opened = []; facts = ([]); locals = ((name_p, (Var 0 sort.Val)) ∷ []); items = ((Data (Number (pos 64)) (Var 0 sort.Val) (Of2 binary.Cons (Of unary.Vi (Number (pos 4))) Nil)) ∷ []) }); post = (record { opened = (sort.Int ∷ []); facts = ((Rel relation.Le (Number (pos 4)) (Var 2 sort.Int)) ∷ []); locals = []; items = ((Data (Number (pos 64)) (Var 0 sort.Val) (Of2 binary.Cons (Of unary.Vi (Var 2 sort.Int)) Nil)) ∷ []) }) }) (record { temps = (name_p ∷ []); body = (c.Then (c.Call None name_g ((c.Temp 0) ∷ [])) (c.Then (c.Return None) c.End)) }) (s.Then 1 (s.Call ((Of unary.Vi (Number (pos 0))) ∷ (Number (pos 4)) ∷ []) ([]) ([]) (name_m ∷ [])) s.NoBlock (s.Then 2 (s.Return ((Named name_m) ∷ []) ([]) ([])) s.NoBlock s.End)) ≡ (RefusedAt 1 13 4)
unfolding computing
conditions_407 = refl

conditions_408 : body_verdict (record { predicates = ([]); specs = ((record { is_void = false; name = name_g; params = (name_q ∷ []); vars = ((name_w, sort.Val) ∷ (name_n, sort.Int) ∷ []); pre = (record { opened = []; facts = ((Rel relation.Le (Number (pos 1)) (Var 1 sort.Int)) ∷ []); locals = ((name_q, (Var 0 sort.Val)) ∷ []); items = ((Data (Number (pos 64)) (Var 0 sort.Val) (Of2 binary.Cons (Of unary.Vi (Var 1 sort.Int)) Nil)) ∷ []) }); post = (record { opened = (sort.Int ∷ []); facts = ((Rel relation.Le (Var 1 sort.Int) (Var 3 sort.Int)) ∷ []); locals = []; items = ((Data (Number (pos 64)) (Var 0 sort.Val) (Of2 binary.Cons (Of unary.Vi (Var 3 sort.Int)) Nil)) ∷ []) }) }) ∷ (record { is_void = true; name = name_f; params = (name_p ∷ []); vars = ((name_v, sort.Val) ∷ []); pre = (record { opened = []; facts = ([]); locals = ((name_p, (Var 0 sort.Val)) ∷ []); items = ((Data (Number (pos 64)) (Var 0 sort.Val) (Of2 binary.Cons (Of unary.Vi (Number (pos 4))) Nil)) ∷ []) }); post = (record { opened = (sort.Int ∷ []); facts = ((Rel relation.Le (Number (pos 4)) (Var 2 sort.Int)) ∷ []); locals = []; items = ((Data (Number (pos 64)) (Var 0 sort.Val) (Of2 binary.Cons (Of unary.Vi (Var 2 sort.Int)) Nil)) ∷ []) }) }) ∷ []) }) (record { is_void = true; name = name_f; params = (name_p ∷ []); vars = ((name_v, sort.Val) ∷ []); pre = (record { opened = []; facts = ([]); locals = ((name_p, (Var 0 sort.Val)) ∷ []); items = ((Data (Number (pos 64)) (Var 0 sort.Val) (Of2 binary.Cons (Of unary.Vi (Number (pos 4))) Nil)) ∷ []) }); post = (record { opened = (sort.Int ∷ []); facts = ((Rel relation.Le (Number (pos 4)) (Var 2 sort.Int)) ∷ []); locals = []; items = ((Data (Number (pos 64)) (Var 0 sort.Val) (Of2 binary.Cons (Of unary.Vi (Var 2 sort.Int)) Nil)) ∷ []) }) }) (record { temps = (name_p ∷ name_t ∷ []); body = (c.Then (c.Call (Some 1) name_g ((c.Temp 0) ∷ [])) (c.Then (c.Return None) c.End)) }) (s.Then 1 (s.Call ((Of unary.Vi (Number (pos 0))) ∷ (Number (pos 4)) ∷ []) ([]) ([]) (name_m ∷ [])) s.NoBlock (s.Then 2 (s.Return ((Named name_m) ∷ []) ([]) ([])) s.NoBlock s.End)) ≡ (RefusedAt 1 13 4)
unfolding computing
conditions_408 = refl

conditions_409 : body_verdict (record { predicates = ([]); specs = ((record { is_void = false; name = name_g; params = (name_q ∷ []); vars = ((name_w, sort.Val) ∷ (name_n, sort.Int) ∷ []); pre = (record { opened = []; facts = ((Rel relation.Le (Number (pos 1)) (Var 1 sort.Int)) ∷ []); locals = ((name_q, (Var 0 sort.Val)) ∷ []); items = ((Data (Number (pos 64)) (Var 0 sort.Val) (Of2 binary.Cons (Of unary.Vi (Var 1 sort.Int)) Nil)) ∷ []) }); post = (record { opened = (sort.Int ∷ []); facts = ((Rel relation.Le (Var 1 sort.Int) (Var 3 sort.Int)) ∷ []); locals = []; items = ((Data (Number (pos 64)) (Var 0 sort.Val) (Of2 binary.Cons (Of unary.Vi (Var 3 sort.Int)) Nil)) ∷ []) }) }) ∷ (record { is_void = true; name = name_f; params = (name_p ∷ []); vars = ((name_v, sort.Val) ∷ []); pre = (record { opened = []; facts = ([]); locals = ((name_p, (Var 0 sort.Val)) ∷ []); items = ((Data (Number (pos 64)) (Var 0 sort.Val) (Of2 binary.Cons (Of unary.Vi (Number (pos 4))) Nil)) ∷ []) }); post = (record { opened = (sort.Int ∷ []); facts = ((Rel relation.Le (Number (pos 4)) (Var 2 sort.Int)) ∷ []); locals = []; items = ((Data (Number (pos 64)) (Var 0 sort.Val) (Of2 binary.Cons (Of unary.Vi (Var 2 sort.Int)) Nil)) ∷ []) }) }) ∷ []) }) (record { is_void = true; name = name_f; params = (name_p ∷ []); vars = ((name_v, sort.Val) ∷ []); pre = (record { opened = []; facts = ([]); locals = ((name_p, (Var 0 sort.Val)) ∷ []); items = ((Data (Number (pos 64)) (Var 0 sort.Val) (Of2 binary.Cons (Of unary.Vi (Number (pos 4))) Nil)) ∷ []) }); post = (record { opened = (sort.Int ∷ []); facts = ((Rel relation.Le (Number (pos 4)) (Var 2 sort.Int)) ∷ []); locals = []; items = ((Data (Number (pos 64)) (Var 0 sort.Val) (Of2 binary.Cons (Of unary.Vi (Var 2 sort.Int)) Nil)) ∷ []) }) }) (record { temps = (name_p ∷ name_t ∷ []); body = (c.Then (c.Call (Some 1) name_g ((c.Temp 0) ∷ [])) (c.Then (c.Return None) c.End)) }) (s.Then 1 (s.Call ((Of unary.Vi (Number (pos 0))) ∷ (Number (pos 4)) ∷ []) ([]) ([]) (name_z ∷ name_m ∷ [])) s.NoBlock (s.Then 2 (s.Return ((Named name_m) ∷ []) ([]) ([])) s.NoBlock s.End)) ≡ (RefusedAt 1 13 4)
unfolding computing
conditions_409 = refl

conditions_410 : body_verdict (record { predicates = ([]); specs = ((record { is_void = true; name = name_g; params = (name_q ∷ []); vars = ((name_w, sort.Val) ∷ (name_n, sort.Int) ∷ []); pre = (record { opened = []; facts = ((Rel relation.Le (Number (pos 1)) (Var 1 sort.Int)) ∷ []); locals = ((name_q, (Var 0 sort.Val)) ∷ []); items = ((Data (Number (pos 64)) (Var 0 sort.Val) (Of2 binary.Cons (Of unary.Vi (Var 1 sort.Int)) Nil)) ∷ []) }); post = (record { opened = (sort.Int ∷ []); facts = ((Rel relation.Le (Var 1 sort.Int) (Var 3 sort.Int)) ∷ []); locals = []; items = ((Data (Number (pos 64)) (Var 0 sort.Val) (Of2 binary.Cons (Of unary.Vi (Var 3 sort.Int)) Nil)) ∷ []) }) }) ∷ (record { is_void = true; name = name_f; params = (name_p ∷ []); vars = ((name_v, sort.Val) ∷ []); pre = (record { opened = []; facts = ([]); locals = ((name_p, (Var 0 sort.Val)) ∷ []); items = ((Data (Number (pos 64)) (Var 0 sort.Val) (Of2 binary.Cons (Of unary.Vi (Number (pos 4))) Nil)) ∷ []) }); post = (record { opened = []; facts = ([]); locals = []; items = ([]) }) }) ∷ []) }) (record { is_void = true; name = name_f; params = (name_p ∷ []); vars = ((name_v, sort.Val) ∷ []); pre = (record { opened = []; facts = ([]); locals = ((name_p, (Var 0 sort.Val)) ∷ []); items = ((Data (Number (pos 64)) (Var 0 sort.Val) (Of2 binary.Cons (Of unary.Vi (Number (pos 4))) Nil)) ∷ []) }); post = (record { opened = []; facts = ([]); locals = []; items = ([]) }) }) (record { temps = (name_p ∷ []); body = (c.Then (c.Spawn name_g (c.Temp 0)) (c.Then (c.Return None) c.End)) }) (s.Then 1 (s.Spawn ((Of unary.Vi (Number (pos 0))) ∷ (Number (pos 4)) ∷ []) ([]) ([])) s.NoBlock (s.Then 2 (s.Return ([]) ([]) ([])) s.NoBlock s.End)) ≡ (RefusedAt 1 20 4)
unfolding computing
conditions_410 = refl

conditions_411 : body_verdict (record { predicates = ([]); specs = ((record { is_void = true; name = name_g; params = (name_q ∷ []); vars = ((name_w, sort.Val) ∷ (name_n, sort.Int) ∷ []); pre = (record { opened = []; facts = ((Rel relation.Le (Number (pos 1)) (Var 1 sort.Int)) ∷ []); locals = ((name_q, (Var 0 sort.Val)) ∷ []); items = ((Data (Number (pos 64)) (Var 0 sort.Val) (Of2 binary.Cons (Of unary.Vi (Var 1 sort.Int)) Nil)) ∷ []) }); post = (record { opened = (sort.Int ∷ []); facts = ((Rel relation.Le (Var 1 sort.Int) (Var 3 sort.Int)) ∷ []); locals = []; items = ((Data (Number (pos 64)) (Var 0 sort.Val) (Of2 binary.Cons (Of unary.Vi (Var 3 sort.Int)) Nil)) ∷ []) }) }) ∷ (record { is_void = true; name = name_f; params = (name_p ∷ []); vars = ((name_v, sort.Val) ∷ []); pre = (record { opened = []; facts = ([]); locals = ((name_p, (Var 0 sort.Val)) ∷ []); items = ((Data (Number (pos 64)) (Var 0 sort.Val) (Of2 binary.Cons (Of unary.Vi (Number (pos 4))) Nil)) ∷ []) }); post = (record { opened = (sort.Int ∷ []); facts = ((Rel relation.Le (Number (pos 4)) (Var 2 sort.Int)) ∷ []); locals = []; items = ((Data (Number (pos 64)) (Var 0 sort.Val) (Of2 binary.Cons (Of unary.Vi (Var 2 sort.Int)) Nil)) ∷ []) }) }) ∷ []) }) (record { is_void = true; name = name_f; params = (name_p ∷ []); vars = ((name_v, sort.Val) ∷ []); pre = (record { opened = []; facts = ([]); locals = ((name_p, (Var 0 sort.Val)) ∷ []); items = ((Data (Number (pos 64)) (Var 0 sort.Val) (Of2 binary.Cons (Of unary.Vi (Number (pos 4))) Nil)) ∷ []) }); post = (record { opened = (sort.Int ∷ []); facts = ((Rel relation.Le (Number (pos 4)) (Var 2 sort.Int)) ∷ []); locals = []; items = ((Data (Number (pos 64)) (Var 0 sort.Val) (Of2 binary.Cons (Of unary.Vi (Var 2 sort.Int)) Nil)) ∷ []) }) }) (record { temps = (name_p ∷ []); body = (c.Then (c.Call None name_g ((c.Temp 0) ∷ [])) (c.Then (c.Return None) c.End)) }) (s.Then 1 (s.Forget (forgotten.Local name_p)) s.NoBlock (s.Then 2 (s.Call ((Named name_v) ∷ (Number (pos 4)) ∷ []) ([]) ([]) (name_m ∷ [])) s.NoBlock (s.Then 3 (s.Return ((Named name_m) ∷ []) ([]) ([])) s.NoBlock s.End))) ≡ (RefusedAt 2 13 2)
unfolding computing
conditions_411 = refl

conditions_412 : body_verdict (record { predicates = ([]); specs = ((record { is_void = false; name = name_g; params = (name_q ∷ []); vars = ((name_w, sort.Val) ∷ (name_n, sort.Int) ∷ []); pre = (record { opened = []; facts = ((Rel relation.Le (Number (pos 1)) (Var 1 sort.Int)) ∷ []); locals = ((name_q, (Var 0 sort.Val)) ∷ []); items = ((Data (Number (pos 64)) (Var 0 sort.Val) (Of2 binary.Cons (Of unary.Vi (Var 1 sort.Int)) Nil)) ∷ []) }); post = (record { opened = (sort.Int ∷ []); facts = ((Rel relation.Le (Var 1 sort.Int) (Var 3 sort.Int)) ∷ []); locals = []; items = ((Data (Number (pos 64)) (Var 0 sort.Val) (Of2 binary.Cons (Of unary.Vi (Var 3 sort.Int)) Nil)) ∷ []) }) }) ∷ (record { is_void = true; name = name_f; params = (name_p ∷ []); vars = ((name_v, sort.Val) ∷ []); pre = (record { opened = []; facts = ([]); locals = ((name_p, (Var 0 sort.Val)) ∷ []); items = ((Data (Number (pos 64)) (Var 0 sort.Val) (Of2 binary.Cons (Of unary.Vi (Number (pos 4))) Nil)) ∷ []) }); post = (record { opened = (sort.Int ∷ []); facts = ((Rel relation.Le (Number (pos 4)) (Var 2 sort.Int)) ∷ []); locals = []; items = ((Data (Number (pos 64)) (Var 0 sort.Val) (Of2 binary.Cons (Of unary.Vi (Var 2 sort.Int)) Nil)) ∷ []) }) }) ∷ []) }) (record { is_void = true; name = name_f; params = (name_p ∷ []); vars = ((name_v, sort.Val) ∷ []); pre = (record { opened = []; facts = ([]); locals = ((name_p, (Var 0 sort.Val)) ∷ []); items = ((Data (Number (pos 64)) (Var 0 sort.Val) (Of2 binary.Cons (Of unary.Vi (Number (pos 4))) Nil)) ∷ []) }); post = (record { opened = (sort.Int ∷ []); facts = ((Rel relation.Le (Number (pos 4)) (Var 2 sort.Int)) ∷ []); locals = []; items = ((Data (Number (pos 64)) (Var 0 sort.Val) (Of2 binary.Cons (Of unary.Vi (Var 2 sort.Int)) Nil)) ∷ []) }) }) (record { temps = (name_p ∷ name_t ∷ []); body = (c.Then (c.Call (Some 1) name_g ((c.Temp 0) ∷ [])) (c.Then (c.Return None) c.End)) }) (s.Then 1 (s.Forget (forgotten.Local name_p)) s.NoBlock (s.Then 2 (s.Call ((Named name_v) ∷ (Number (pos 4)) ∷ []) ([]) ([]) (name_m ∷ [])) s.NoBlock (s.Then 3 (s.Return ((Named name_m) ∷ []) ([]) ([])) s.NoBlock s.End))) ≡ (RefusedAt 2 13 2)
unfolding computing
conditions_412 = refl

conditions_413 : body_verdict (record { predicates = ([]); specs = ((record { is_void = false; name = name_g; params = (name_q ∷ []); vars = ((name_w, sort.Val) ∷ (name_n, sort.Int) ∷ []); pre = (record { opened = []; facts = ((Rel relation.Le (Number (pos 1)) (Var 1 sort.Int)) ∷ []); locals = ((name_q, (Var 0 sort.Val)) ∷ []); items = ((Data (Number (pos 64)) (Var 0 sort.Val) (Of2 binary.Cons (Of unary.Vi (Var 1 sort.Int)) Nil)) ∷ []) }); post = (record { opened = (sort.Int ∷ []); facts = ((Rel relation.Le (Var 1 sort.Int) (Var 3 sort.Int)) ∷ []); locals = []; items = ((Data (Number (pos 64)) (Var 0 sort.Val) (Of2 binary.Cons (Of unary.Vi (Var 3 sort.Int)) Nil)) ∷ []) }) }) ∷ (record { is_void = true; name = name_f; params = (name_p ∷ []); vars = ((name_v, sort.Val) ∷ []); pre = (record { opened = []; facts = ([]); locals = ((name_p, (Var 0 sort.Val)) ∷ []); items = ((Data (Number (pos 64)) (Var 0 sort.Val) (Of2 binary.Cons (Of unary.Vi (Number (pos 4))) Nil)) ∷ []) }); post = (record { opened = (sort.Int ∷ []); facts = ((Rel relation.Le (Number (pos 4)) (Var 2 sort.Int)) ∷ []); locals = []; items = ((Data (Number (pos 64)) (Var 0 sort.Val) (Of2 binary.Cons (Of unary.Vi (Var 2 sort.Int)) Nil)) ∷ []) }) }) ∷ []) }) (record { is_void = true; name = name_f; params = (name_p ∷ []); vars = ((name_v, sort.Val) ∷ []); pre = (record { opened = []; facts = ([]); locals = ((name_p, (Var 0 sort.Val)) ∷ []); items = ((Data (Number (pos 64)) (Var 0 sort.Val) (Of2 binary.Cons (Of unary.Vi (Number (pos 4))) Nil)) ∷ []) }); post = (record { opened = (sort.Int ∷ []); facts = ((Rel relation.Le (Number (pos 4)) (Var 2 sort.Int)) ∷ []); locals = []; items = ((Data (Number (pos 64)) (Var 0 sort.Val) (Of2 binary.Cons (Of unary.Vi (Var 2 sort.Int)) Nil)) ∷ []) }) }) (record { temps = (name_p ∷ name_t ∷ []); body = (c.Then (c.Call (Some 1) name_g ((c.Temp 0) ∷ [])) (c.Then (c.Return None) c.End)) }) (s.Then 1 (s.Forget (forgotten.Local name_p)) s.NoBlock (s.Then 2 (s.Call ((Named name_v) ∷ (Number (pos 4)) ∷ []) ([]) ([]) (name_z ∷ name_m ∷ [])) s.NoBlock (s.Then 3 (s.Return ((Named name_m) ∷ []) ([]) ([])) s.NoBlock s.End))) ≡ (RefusedAt 2 13 2)
unfolding computing
conditions_413 = refl

conditions_414 : body_verdict (record { predicates = ([]); specs = ((record { is_void = true; name = name_g; params = (name_q ∷ []); vars = ((name_w, sort.Val) ∷ (name_n, sort.Int) ∷ []); pre = (record { opened = []; facts = ((Rel relation.Le (Number (pos 1)) (Var 1 sort.Int)) ∷ []); locals = ((name_q, (Var 0 sort.Val)) ∷ []); items = ((Data (Number (pos 64)) (Var 0 sort.Val) (Of2 binary.Cons (Of unary.Vi (Var 1 sort.Int)) Nil)) ∷ []) }); post = (record { opened = (sort.Int ∷ []); facts = ((Rel relation.Le (Var 1 sort.Int) (Var 3 sort.Int)) ∷ []); locals = []; items = ((Data (Number (pos 64)) (Var 0 sort.Val) (Of2 binary.Cons (Of unary.Vi (Var 3 sort.Int)) Nil)) ∷ []) }) }) ∷ (record { is_void = true; name = name_f; params = (name_p ∷ []); vars = ((name_v, sort.Val) ∷ []); pre = (record { opened = []; facts = ([]); locals = ((name_p, (Var 0 sort.Val)) ∷ []); items = ((Data (Number (pos 64)) (Var 0 sort.Val) (Of2 binary.Cons (Of unary.Vi (Number (pos 4))) Nil)) ∷ []) }); post = (record { opened = []; facts = ([]); locals = []; items = ([]) }) }) ∷ []) }) (record { is_void = true; name = name_f; params = (name_p ∷ []); vars = ((name_v, sort.Val) ∷ []); pre = (record { opened = []; facts = ([]); locals = ((name_p, (Var 0 sort.Val)) ∷ []); items = ((Data (Number (pos 64)) (Var 0 sort.Val) (Of2 binary.Cons (Of unary.Vi (Number (pos 4))) Nil)) ∷ []) }); post = (record { opened = []; facts = ([]); locals = []; items = ([]) }) }) (record { temps = (name_p ∷ []); body = (c.Then (c.Spawn name_g (c.Temp 0)) (c.Then (c.Return None) c.End)) }) (s.Then 1 (s.Forget (forgotten.Local name_p)) s.NoBlock (s.Then 2 (s.Spawn ((Named name_v) ∷ (Number (pos 4)) ∷ []) ([]) ([])) s.NoBlock (s.Then 3 (s.Return ([]) ([]) ([])) s.NoBlock s.End))) ≡ (RefusedAt 2 20 2)
unfolding computing
conditions_414 = refl

conditions_415 : body_verdict (record { predicates = ([]); specs = ((record { is_void = true; name = name_g; params = (name_q ∷ []); vars = ((name_w, sort.Val) ∷ (name_n, sort.Int) ∷ []); pre = (record { opened = []; facts = ((Rel relation.Le (Number (pos 1)) (Var 1 sort.Int)) ∷ []); locals = ((name_q, (Var 0 sort.Val)) ∷ []); items = ((Data (Number (pos 64)) (Var 0 sort.Val) (Of2 binary.Cons (Of unary.Vi (Var 1 sort.Int)) Nil)) ∷ []) }); post = (record { opened = (sort.Int ∷ []); facts = ((Rel relation.Le (Var 1 sort.Int) (Var 3 sort.Int)) ∷ []); locals = []; items = ((Data (Number (pos 64)) (Var 0 sort.Val) (Of2 binary.Cons (Of unary.Vi (Var 3 sort.Int)) Nil)) ∷ []) }) }) ∷ (record { is_void = true; name = name_f; params = (name_p ∷ []); vars = ((name_v, sort.Val) ∷ []); pre = (record { opened = []; facts = ([]); locals = ((name_p, (Var 0 sort.Val)) ∷ []); items = ((Data (Number (pos 64)) (Var 0 sort.Val) (Of2 binary.Cons (Of unary.Vi (Number (pos 4))) Nil)) ∷ []) }); post = (record { opened = (sort.Int ∷ []); facts = ((Rel relation.Le (Number (pos 4)) (Var 2 sort.Int)) ∷ []); locals = []; items = ((Data (Number (pos 64)) (Var 0 sort.Val) (Of2 binary.Cons (Of unary.Vi (Var 2 sort.Int)) Nil)) ∷ []) }) }) ∷ []) }) (record { is_void = true; name = name_f; params = (name_p ∷ []); vars = ((name_v, sort.Val) ∷ []); pre = (record { opened = []; facts = ([]); locals = ((name_p, (Var 0 sort.Val)) ∷ []); items = ((Data (Number (pos 64)) (Var 0 sort.Val) (Of2 binary.Cons (Of unary.Vi (Number (pos 4))) Nil)) ∷ []) }); post = (record { opened = (sort.Int ∷ []); facts = ((Rel relation.Le (Number (pos 4)) (Var 2 sort.Int)) ∷ []); locals = []; items = ((Data (Number (pos 64)) (Var 0 sort.Val) (Of2 binary.Cons (Of unary.Vi (Var 2 sort.Int)) Nil)) ∷ []) }) }) (record { temps = (name_p ∷ []); body = (c.Then (c.Call None name_g ((c.Temp 0) ∷ [])) (c.Then (c.Return None) c.End)) }) (s.Then 1 (s.Call ((Named name_v) ∷ (Number (pos 4)) ∷ []) (0 ∷ []) ([]) (name_m ∷ [])) s.NoBlock (s.Then 2 (s.Return ((Named name_m) ∷ []) ([]) ([])) s.NoBlock s.End)) ≡ (RefusedAt 1 13 1)
unfolding computing
conditions_415 = refl

conditions_416 : body_verdict (record { predicates = ([]); specs = ((record { is_void = false; name = name_g; params = (name_q ∷ []); vars = ((name_w, sort.Val) ∷ (name_n, sort.Int) ∷ []); pre = (record { opened = []; facts = ((Rel relation.Le (Number (pos 1)) (Var 1 sort.Int)) ∷ []); locals = ((name_q, (Var 0 sort.Val)) ∷ []); items = ((Data (Number (pos 64)) (Var 0 sort.Val) (Of2 binary.Cons (Of unary.Vi (Var 1 sort.Int)) Nil)) ∷ []) }); post = (record { opened = (sort.Int ∷ []); facts = ((Rel relation.Le (Var 1 sort.Int) (Var 3 sort.Int)) ∷ []); locals = []; items = ((Data (Number (pos 64)) (Var 0 sort.Val) (Of2 binary.Cons (Of unary.Vi (Var 3 sort.Int)) Nil)) ∷ []) }) }) ∷ (record { is_void = true; name = name_f; params = (name_p ∷ []); vars = ((name_v, sort.Val) ∷ []); pre = (record { opened = []; facts = ([]); locals = ((name_p, (Var 0 sort.Val)) ∷ []); items = ((Data (Number (pos 64)) (Var 0 sort.Val) (Of2 binary.Cons (Of unary.Vi (Number (pos 4))) Nil)) ∷ []) }); post = (record { opened = (sort.Int ∷ []); facts = ((Rel relation.Le (Number (pos 4)) (Var 2 sort.Int)) ∷ []); locals = []; items = ((Data (Number (pos 64)) (Var 0 sort.Val) (Of2 binary.Cons (Of unary.Vi (Var 2 sort.Int)) Nil)) ∷ []) }) }) ∷ []) }) (record { is_void = true; name = name_f; params = (name_p ∷ []); vars = ((name_v, sort.Val) ∷ []); pre = (record { opened = []; facts = ([]); locals = ((name_p, (Var 0 sort.Val)) ∷ []); items = ((Data (Number (pos 64)) (Var 0 sort.Val) (Of2 binary.Cons (Of unary.Vi (Number (pos 4))) Nil)) ∷ []) }); post = (record { opened = (sort.Int ∷ []); facts = ((Rel relation.Le (Number (pos 4)) (Var 2 sort.Int)) ∷ []); locals = []; items = ((Data (Number (pos 64)) (Var 0 sort.Val) (Of2 binary.Cons (Of unary.Vi (Var 2 sort.Int)) Nil)) ∷ []) }) }) (record { temps = (name_p ∷ name_t ∷ []); body = (c.Then (c.Call (Some 1) name_g ((c.Temp 0) ∷ [])) (c.Then (c.Return None) c.End)) }) (s.Then 1 (s.Call ((Named name_v) ∷ (Number (pos 4)) ∷ []) (0 ∷ []) ([]) (name_m ∷ [])) s.NoBlock (s.Then 2 (s.Return ((Named name_m) ∷ []) ([]) ([])) s.NoBlock s.End)) ≡ (RefusedAt 1 13 1)
unfolding computing
conditions_416 = refl

conditions_417 : body_verdict (record { predicates = ([]); specs = ((record { is_void = false; name = name_g; params = (name_q ∷ []); vars = ((name_w, sort.Val) ∷ (name_n, sort.Int) ∷ []); pre = (record { opened = []; facts = ((Rel relation.Le (Number (pos 1)) (Var 1 sort.Int)) ∷ []); locals = ((name_q, (Var 0 sort.Val)) ∷ []); items = ((Data (Number (pos 64)) (Var 0 sort.Val) (Of2 binary.Cons (Of unary.Vi (Var 1 sort.Int)) Nil)) ∷ []) }); post = (record { opened = (sort.Int ∷ []); facts = ((Rel relation.Le (Var 1 sort.Int) (Var 3 sort.Int)) ∷ []); locals = []; items = ((Data (Number (pos 64)) (Var 0 sort.Val) (Of2 binary.Cons (Of unary.Vi (Var 3 sort.Int)) Nil)) ∷ []) }) }) ∷ (record { is_void = true; name = name_f; params = (name_p ∷ []); vars = ((name_v, sort.Val) ∷ []); pre = (record { opened = []; facts = ([]); locals = ((name_p, (Var 0 sort.Val)) ∷ []); items = ((Data (Number (pos 64)) (Var 0 sort.Val) (Of2 binary.Cons (Of unary.Vi (Number (pos 4))) Nil)) ∷ []) }); post = (record { opened = (sort.Int ∷ []); facts = ((Rel relation.Le (Number (pos 4)) (Var 2 sort.Int)) ∷ []); locals = []; items = ((Data (Number (pos 64)) (Var 0 sort.Val) (Of2 binary.Cons (Of unary.Vi (Var 2 sort.Int)) Nil)) ∷ []) }) }) ∷ []) }) (record { is_void = true; name = name_f; params = (name_p ∷ []); vars = ((name_v, sort.Val) ∷ []); pre = (record { opened = []; facts = ([]); locals = ((name_p, (Var 0 sort.Val)) ∷ []); items = ((Data (Number (pos 64)) (Var 0 sort.Val) (Of2 binary.Cons (Of unary.Vi (Number (pos 4))) Nil)) ∷ []) }); post = (record { opened = (sort.Int ∷ []); facts = ((Rel relation.Le (Number (pos 4)) (Var 2 sort.Int)) ∷ []); locals = []; items = ((Data (Number (pos 64)) (Var 0 sort.Val) (Of2 binary.Cons (Of unary.Vi (Var 2 sort.Int)) Nil)) ∷ []) }) }) (record { temps = (name_p ∷ name_t ∷ []); body = (c.Then (c.Call (Some 1) name_g ((c.Temp 0) ∷ [])) (c.Then (c.Return None) c.End)) }) (s.Then 1 (s.Call ((Named name_v) ∷ (Number (pos 4)) ∷ []) (0 ∷ []) ([]) (name_z ∷ name_m ∷ [])) s.NoBlock (s.Then 2 (s.Return ((Named name_m) ∷ []) ([]) ([])) s.NoBlock s.End)) ≡ (RefusedAt 1 13 1)
unfolding computing
conditions_417 = refl

conditions_418 : body_verdict (record { predicates = ([]); specs = ((record { is_void = true; name = name_g; params = (name_q ∷ []); vars = ((name_w, sort.Val) ∷ (name_n, sort.Int) ∷ []); pre = (record { opened = []; facts = ((Rel relation.Le (Number (pos 1)) (Var 1 sort.Int)) ∷ []); locals = ((name_q, (Var 0 sort.Val)) ∷ []); items = ((Data (Number (pos 64)) (Var 0 sort.Val) (Of2 binary.Cons (Of unary.Vi (Var 1 sort.Int)) Nil)) ∷ []) }); post = (record { opened = (sort.Int ∷ []); facts = ((Rel relation.Le (Var 1 sort.Int) (Var 3 sort.Int)) ∷ []); locals = []; items = ((Data (Number (pos 64)) (Var 0 sort.Val) (Of2 binary.Cons (Of unary.Vi (Var 3 sort.Int)) Nil)) ∷ []) }) }) ∷ (record { is_void = true; name = name_f; params = (name_p ∷ []); vars = ((name_v, sort.Val) ∷ []); pre = (record { opened = []; facts = ([]); locals = ((name_p, (Var 0 sort.Val)) ∷ []); items = ((Data (Number (pos 64)) (Var 0 sort.Val) (Of2 binary.Cons (Of unary.Vi (Number (pos 4))) Nil)) ∷ []) }); post = (record { opened = []; facts = ([]); locals = []; items = ([]) }) }) ∷ []) }) (record { is_void = true; name = name_f; params = (name_p ∷ []); vars = ((name_v, sort.Val) ∷ []); pre = (record { opened = []; facts = ([]); locals = ((name_p, (Var 0 sort.Val)) ∷ []); items = ((Data (Number (pos 64)) (Var 0 sort.Val) (Of2 binary.Cons (Of unary.Vi (Number (pos 4))) Nil)) ∷ []) }); post = (record { opened = []; facts = ([]); locals = []; items = ([]) }) }) (record { temps = (name_p ∷ []); body = (c.Then (c.Spawn name_g (c.Temp 0)) (c.Then (c.Return None) c.End)) }) (s.Then 1 (s.Spawn ((Named name_v) ∷ (Number (pos 4)) ∷ []) (0 ∷ []) ([])) s.NoBlock (s.Then 2 (s.Return ([]) ([]) ([])) s.NoBlock s.End)) ≡ (RefusedAt 1 20 1)
unfolding computing
conditions_418 = refl

conditions_419 : body_verdict (record { predicates = ([]); specs = ((record { is_void = true; name = name_g; params = (name_q ∷ []); vars = ((name_w, sort.Val) ∷ (name_n, sort.Int) ∷ []); pre = (record { opened = []; facts = ((Rel relation.Le (Number (pos 1)) (Var 1 sort.Int)) ∷ []); locals = ((name_q, (Var 0 sort.Val)) ∷ []); items = ((Data (Number (pos 64)) (Var 0 sort.Val) (Of2 binary.Cons (Of unary.Vi (Var 1 sort.Int)) Nil)) ∷ []) }); post = (record { opened = (sort.Int ∷ []); facts = ((Rel relation.Le (Var 1 sort.Int) (Var 3 sort.Int)) ∷ []); locals = []; items = ((Data (Number (pos 64)) (Var 0 sort.Val) (Of2 binary.Cons (Of unary.Vi (Var 3 sort.Int)) Nil)) ∷ []) }) }) ∷ (record { is_void = true; name = name_f; params = (name_p ∷ []); vars = ((name_v, sort.Val) ∷ []); pre = (record { opened = []; facts = ([]); locals = ((name_p, (Var 0 sort.Val)) ∷ []); items = ((Data (Number (pos 64)) (Var 0 sort.Val) (Of2 binary.Cons (Of unary.Vi (Number (pos 4))) Nil)) ∷ []) }); post = (record { opened = (sort.Int ∷ []); facts = ((Rel relation.Le (Number (pos 4)) (Var 2 sort.Int)) ∷ []); locals = []; items = ((Data (Number (pos 64)) (Var 0 sort.Val) (Of2 binary.Cons (Of unary.Vi (Var 2 sort.Int)) Nil)) ∷ []) }) }) ∷ []) }) (record { is_void = true; name = name_f; params = (name_p ∷ []); vars = ((name_v, sort.Val) ∷ []); pre = (record { opened = []; facts = ([]); locals = ((name_p, (Var 0 sort.Val)) ∷ []); items = ((Data (Number (pos 64)) (Var 0 sort.Val) (Of2 binary.Cons (Of unary.Vi (Number (pos 4))) Nil)) ∷ []) }); post = (record { opened = (sort.Int ∷ []); facts = ((Rel relation.Le (Number (pos 4)) (Var 2 sort.Int)) ∷ []); locals = []; items = ((Data (Number (pos 64)) (Var 0 sort.Val) (Of2 binary.Cons (Of unary.Vi (Var 2 sort.Int)) Nil)) ∷ []) }) }) (record { temps = (name_p ∷ []); body = (c.Then (c.Call None name_g ((c.Temp 0) ∷ [])) (c.Then (c.Return None) c.End)) }) (s.Then 1 (s.Call ((Named name_v) ∷ (Number (pos 4)) ∷ []) ([]) ((record { lines = ((line.Comb (((pos 1), 0) ∷ [])) ∷ []) }) ∷ []) (name_m ∷ [])) s.NoBlock (s.Then 2 (s.Return ((Named name_m) ∷ []) ([]) ([])) s.NoBlock s.End)) ≡ (RefusedAt 1 13 3)
unfolding computing
conditions_419 = refl

conditions_420 : body_verdict (record { predicates = ([]); specs = ((record { is_void = false; name = name_g; params = (name_q ∷ []); vars = ((name_w, sort.Val) ∷ (name_n, sort.Int) ∷ []); pre = (record { opened = []; facts = ((Rel relation.Le (Number (pos 1)) (Var 1 sort.Int)) ∷ []); locals = ((name_q, (Var 0 sort.Val)) ∷ []); items = ((Data (Number (pos 64)) (Var 0 sort.Val) (Of2 binary.Cons (Of unary.Vi (Var 1 sort.Int)) Nil)) ∷ []) }); post = (record { opened = (sort.Int ∷ []); facts = ((Rel relation.Le (Var 1 sort.Int) (Var 3 sort.Int)) ∷ []); locals = []; items = ((Data (Number (pos 64)) (Var 0 sort.Val) (Of2 binary.Cons (Of unary.Vi (Var 3 sort.Int)) Nil)) ∷ []) }) }) ∷ (record { is_void = true; name = name_f; params = (name_p ∷ []); vars = ((name_v, sort.Val) ∷ []); pre = (record { opened = []; facts = ([]); locals = ((name_p, (Var 0 sort.Val)) ∷ []); items = ((Data (Number (pos 64)) (Var 0 sort.Val) (Of2 binary.Cons (Of unary.Vi (Number (pos 4))) Nil)) ∷ []) }); post = (record { opened = (sort.Int ∷ []); facts = ((Rel relation.Le (Number (pos 4)) (Var 2 sort.Int)) ∷ []); locals = []; items = ((Data (Number (pos 64)) (Var 0 sort.Val) (Of2 binary.Cons (Of unary.Vi (Var 2 sort.Int)) Nil)) ∷ []) }) }) ∷ []) }) (record { is_void = true; name = name_f; params = (name_p ∷ []); vars = ((name_v, sort.Val) ∷ []); pre = (record { opened = []; facts = ([]); locals = ((name_p, (Var 0 sort.Val)) ∷ []); items = ((Data (Number (pos 64)) (Var 0 sort.Val) (Of2 binary.Cons (Of unary.Vi (Number (pos 4))) Nil)) ∷ []) }); post = (record { opened = (sort.Int ∷ []); facts = ((Rel relation.Le (Number (pos 4)) (Var 2 sort.Int)) ∷ []); locals = []; items = ((Data (Number (pos 64)) (Var 0 sort.Val) (Of2 binary.Cons (Of unary.Vi (Var 2 sort.Int)) Nil)) ∷ []) }) }) (record { temps = (name_p ∷ name_t ∷ []); body = (c.Then (c.Call (Some 1) name_g ((c.Temp 0) ∷ [])) (c.Then (c.Return None) c.End)) }) (s.Then 1 (s.Call ((Named name_v) ∷ (Number (pos 4)) ∷ []) ([]) ((record { lines = ((line.Comb (((pos 1), 0) ∷ [])) ∷ []) }) ∷ []) (name_m ∷ [])) s.NoBlock (s.Then 2 (s.Return ((Named name_m) ∷ []) ([]) ([])) s.NoBlock s.End)) ≡ (RefusedAt 1 13 3)
unfolding computing
conditions_420 = refl

conditions_421 : body_verdict (record { predicates = ([]); specs = ((record { is_void = false; name = name_g; params = (name_q ∷ []); vars = ((name_w, sort.Val) ∷ (name_n, sort.Int) ∷ []); pre = (record { opened = []; facts = ((Rel relation.Le (Number (pos 1)) (Var 1 sort.Int)) ∷ []); locals = ((name_q, (Var 0 sort.Val)) ∷ []); items = ((Data (Number (pos 64)) (Var 0 sort.Val) (Of2 binary.Cons (Of unary.Vi (Var 1 sort.Int)) Nil)) ∷ []) }); post = (record { opened = (sort.Int ∷ []); facts = ((Rel relation.Le (Var 1 sort.Int) (Var 3 sort.Int)) ∷ []); locals = []; items = ((Data (Number (pos 64)) (Var 0 sort.Val) (Of2 binary.Cons (Of unary.Vi (Var 3 sort.Int)) Nil)) ∷ []) }) }) ∷ (record { is_void = true; name = name_f; params = (name_p ∷ []); vars = ((name_v, sort.Val) ∷ []); pre = (record { opened = []; facts = ([]); locals = ((name_p, (Var 0 sort.Val)) ∷ []); items = ((Data (Number (pos 64)) (Var 0 sort.Val) (Of2 binary.Cons (Of unary.Vi (Number (pos 4))) Nil)) ∷ []) }); post = (record { opened = (sort.Int ∷ []); facts = ((Rel relation.Le (Number (pos 4)) (Var 2 sort.Int)) ∷ []); locals = []; items = ((Data (Number (pos 64)) (Var 0 sort.Val) (Of2 binary.Cons (Of unary.Vi (Var 2 sort.Int)) Nil)) ∷ []) }) }) ∷ []) }) (record { is_void = true; name = name_f; params = (name_p ∷ []); vars = ((name_v, sort.Val) ∷ []); pre = (record { opened = []; facts = ([]); locals = ((name_p, (Var 0 sort.Val)) ∷ []); items = ((Data (Number (pos 64)) (Var 0 sort.Val) (Of2 binary.Cons (Of unary.Vi (Number (pos 4))) Nil)) ∷ []) }); post = (record { opened = (sort.Int ∷ []); facts = ((Rel relation.Le (Number (pos 4)) (Var 2 sort.Int)) ∷ []); locals = []; items = ((Data (Number (pos 64)) (Var 0 sort.Val) (Of2 binary.Cons (Of unary.Vi (Var 2 sort.Int)) Nil)) ∷ []) }) }) (record { temps = (name_p ∷ name_t ∷ []); body = (c.Then (c.Call (Some 1) name_g ((c.Temp 0) ∷ [])) (c.Then (c.Return None) c.End)) }) (s.Then 1 (s.Call ((Named name_v) ∷ (Number (pos 4)) ∷ []) ([]) ((record { lines = ((line.Comb (((pos 1), 0) ∷ [])) ∷ []) }) ∷ []) (name_z ∷ name_m ∷ [])) s.NoBlock (s.Then 2 (s.Return ((Named name_m) ∷ []) ([]) ([])) s.NoBlock s.End)) ≡ (RefusedAt 1 13 3)
unfolding computing
conditions_421 = refl

conditions_422 : body_verdict (record { predicates = ([]); specs = ((record { is_void = true; name = name_g; params = (name_q ∷ []); vars = ((name_w, sort.Val) ∷ (name_n, sort.Int) ∷ []); pre = (record { opened = []; facts = ((Rel relation.Le (Number (pos 1)) (Var 1 sort.Int)) ∷ []); locals = ((name_q, (Var 0 sort.Val)) ∷ []); items = ((Data (Number (pos 64)) (Var 0 sort.Val) (Of2 binary.Cons (Of unary.Vi (Var 1 sort.Int)) Nil)) ∷ []) }); post = (record { opened = (sort.Int ∷ []); facts = ((Rel relation.Le (Var 1 sort.Int) (Var 3 sort.Int)) ∷ []); locals = []; items = ((Data (Number (pos 64)) (Var 0 sort.Val) (Of2 binary.Cons (Of unary.Vi (Var 3 sort.Int)) Nil)) ∷ []) }) }) ∷ (record { is_void = true; name = name_f; params = (name_p ∷ []); vars = ((name_v, sort.Val) ∷ []); pre = (record { opened = []; facts = ([]); locals = ((name_p, (Var 0 sort.Val)) ∷ []); items = ((Data (Number (pos 64)) (Var 0 sort.Val) (Of2 binary.Cons (Of unary.Vi (Number (pos 4))) Nil)) ∷ []) }); post = (record { opened = []; facts = ([]); locals = []; items = ([]) }) }) ∷ []) }) (record { is_void = true; name = name_f; params = (name_p ∷ []); vars = ((name_v, sort.Val) ∷ []); pre = (record { opened = []; facts = ([]); locals = ((name_p, (Var 0 sort.Val)) ∷ []); items = ((Data (Number (pos 64)) (Var 0 sort.Val) (Of2 binary.Cons (Of unary.Vi (Number (pos 4))) Nil)) ∷ []) }); post = (record { opened = []; facts = ([]); locals = []; items = ([]) }) }) (record { temps = (name_p ∷ []); body = (c.Then (c.Spawn name_g (c.Temp 0)) (c.Then (c.Return None) c.End)) }) (s.Then 1 (s.Spawn ((Named name_v) ∷ (Number (pos 4)) ∷ []) ([]) ((record { lines = ((line.Comb (((pos 1), 0) ∷ [])) ∷ []) }) ∷ [])) s.NoBlock (s.Then 2 (s.Return ([]) ([]) ([])) s.NoBlock s.End)) ≡ (RefusedAt 1 20 3)
unfolding computing
conditions_422 = refl

conditions_423 : body_verdict (record { predicates = ([]); specs = ((record { is_void = true; name = name_g; params = (name_q ∷ []); vars = ((name_w, sort.Val) ∷ (name_n, sort.Int) ∷ []); pre = (record { opened = []; facts = ((Rel relation.Le (Number (pos 1)) (Var 1 sort.Int)) ∷ []); locals = ((name_q, (Var 0 sort.Val)) ∷ []); items = ((Data (Number (pos 64)) (Var 0 sort.Val) (Of2 binary.Cons (Of unary.Vi (Var 1 sort.Int)) Nil)) ∷ []) }); post = (record { opened = (sort.Int ∷ []); facts = ((Rel relation.Le (Var 1 sort.Int) (Var 3 sort.Int)) ∷ []); locals = []; items = ((Data (Number (pos 64)) (Var 0 sort.Val) (Of2 binary.Cons (Of unary.Vi (Var 3 sort.Int)) Nil)) ∷ []) }) }) ∷ (record { is_void = true; name = name_f; params = (name_p ∷ []); vars = ((name_v, sort.Val) ∷ []); pre = (record { opened = []; facts = ([]); locals = ((name_p, (Var 0 sort.Val)) ∷ []); items = ((Data (Number (pos 64)) (Var 0 sort.Val) (Of2 binary.Cons (Of unary.Vi (Number (pos 4))) Nil)) ∷ []) }); post = (record { opened = (sort.Int ∷ []); facts = ((Rel relation.Le (Number (pos 4)) (Var 2 sort.Int)) ∷ []); locals = []; items = ((Data (Number (pos 64)) (Var 0 sort.Val) (Of2 binary.Cons (Of unary.Vi (Var 2 sort.Int)) Nil)) ∷ []) }) }) ∷ []) }) (record { is_void = true; name = name_f; params = (name_p ∷ []); vars = ((name_v, sort.Val) ∷ []); pre = (record { opened = []; facts = ([]); locals = ((name_p, (Var 0 sort.Val)) ∷ []); items = ((Data (Number (pos 64)) (Var 0 sort.Val) (Of2 binary.Cons (Of unary.Vi (Number (pos 4))) Nil)) ∷ []) }); post = (record { opened = (sort.Int ∷ []); facts = ((Rel relation.Le (Number (pos 4)) (Var 2 sort.Int)) ∷ []); locals = []; items = ((Data (Number (pos 64)) (Var 0 sort.Val) (Of2 binary.Cons (Of unary.Vi (Var 2 sort.Int)) Nil)) ∷ []) }) }) (record { temps = (name_p ∷ []); body = (c.Then (c.Call None name_g ((c.Temp 0) ∷ [])) (c.Then (c.Return None) c.End)) }) (s.Then 1 (s.Share 0 (Number (pos 32)) ([])) s.NoBlock (s.Then 2 (s.Call ((Named name_v) ∷ (Number (pos 4)) ∷ []) ([]) ([]) (name_m ∷ [])) s.NoBlock (s.Then 3 (s.Return ((Named name_m) ∷ []) ([]) ([])) s.NoBlock s.End))) ≡ (RefusedAt 2 13 5)
unfolding computing
conditions_423 = refl

conditions_424 : body_verdict (record { predicates = ([]); specs = ((record { is_void = false; name = name_g; params = (name_q ∷ []); vars = ((name_w, sort.Val) ∷ (name_n, sort.Int) ∷ []); pre = (record { opened = []; facts = ((Rel relation.Le (Number (pos 1)) (Var 1 sort.Int)) ∷ []); locals = ((name_q, (Var 0 sort.Val)) ∷ []); items = ((Data (Number (pos 64)) (Var 0 sort.Val) (Of2 binary.Cons (Of unary.Vi (Var 1 sort.Int)) Nil)) ∷ []) }); post = (record { opened = (sort.Int ∷ []); facts = ((Rel relation.Le (Var 1 sort.Int) (Var 3 sort.Int)) ∷ []); locals = []; items = ((Data (Number (pos 64)) (Var 0 sort.Val) (Of2 binary.Cons (Of unary.Vi (Var 3 sort.Int)) Nil)) ∷ []) }) }) ∷ (record { is_void = true; name = name_f; params = (name_p ∷ []); vars = ((name_v, sort.Val) ∷ []); pre = (record { opened = []; facts = ([]); locals = ((name_p, (Var 0 sort.Val)) ∷ []); items = ((Data (Number (pos 64)) (Var 0 sort.Val) (Of2 binary.Cons (Of unary.Vi (Number (pos 4))) Nil)) ∷ []) }); post = (record { opened = (sort.Int ∷ []); facts = ((Rel relation.Le (Number (pos 4)) (Var 2 sort.Int)) ∷ []); locals = []; items = ((Data (Number (pos 64)) (Var 0 sort.Val) (Of2 binary.Cons (Of unary.Vi (Var 2 sort.Int)) Nil)) ∷ []) }) }) ∷ []) }) (record { is_void = true; name = name_f; params = (name_p ∷ []); vars = ((name_v, sort.Val) ∷ []); pre = (record { opened = []; facts = ([]); locals = ((name_p, (Var 0 sort.Val)) ∷ []); items = ((Data (Number (pos 64)) (Var 0 sort.Val) (Of2 binary.Cons (Of unary.Vi (Number (pos 4))) Nil)) ∷ []) }); post = (record { opened = (sort.Int ∷ []); facts = ((Rel relation.Le (Number (pos 4)) (Var 2 sort.Int)) ∷ []); locals = []; items = ((Data (Number (pos 64)) (Var 0 sort.Val) (Of2 binary.Cons (Of unary.Vi (Var 2 sort.Int)) Nil)) ∷ []) }) }) (record { temps = (name_p ∷ name_t ∷ []); body = (c.Then (c.Call (Some 1) name_g ((c.Temp 0) ∷ [])) (c.Then (c.Return None) c.End)) }) (s.Then 1 (s.Share 0 (Number (pos 32)) ([])) s.NoBlock (s.Then 2 (s.Call ((Named name_v) ∷ (Number (pos 4)) ∷ []) ([]) ([]) (name_m ∷ [])) s.NoBlock (s.Then 3 (s.Return ((Named name_m) ∷ []) ([]) ([])) s.NoBlock s.End))) ≡ (RefusedAt 2 13 5)
unfolding computing
conditions_424 = refl

conditions_425 : body_verdict (record { predicates = ([]); specs = ((record { is_void = false; name = name_g; params = (name_q ∷ []); vars = ((name_w, sort.Val) ∷ (name_n, sort.Int) ∷ []); pre = (record { opened = []; facts = ((Rel relation.Le (Number (pos 1)) (Var 1 sort.Int)) ∷ []); locals = ((name_q, (Var 0 sort.Val)) ∷ []); items = ((Data (Number (pos 64)) (Var 0 sort.Val) (Of2 binary.Cons (Of unary.Vi (Var 1 sort.Int)) Nil)) ∷ []) }); post = (record { opened = (sort.Int ∷ []); facts = ((Rel relation.Le (Var 1 sort.Int) (Var 3 sort.Int)) ∷ []); locals = []; items = ((Data (Number (pos 64)) (Var 0 sort.Val) (Of2 binary.Cons (Of unary.Vi (Var 3 sort.Int)) Nil)) ∷ []) }) }) ∷ (record { is_void = true; name = name_f; params = (name_p ∷ []); vars = ((name_v, sort.Val) ∷ []); pre = (record { opened = []; facts = ([]); locals = ((name_p, (Var 0 sort.Val)) ∷ []); items = ((Data (Number (pos 64)) (Var 0 sort.Val) (Of2 binary.Cons (Of unary.Vi (Number (pos 4))) Nil)) ∷ []) }); post = (record { opened = (sort.Int ∷ []); facts = ((Rel relation.Le (Number (pos 4)) (Var 2 sort.Int)) ∷ []); locals = []; items = ((Data (Number (pos 64)) (Var 0 sort.Val) (Of2 binary.Cons (Of unary.Vi (Var 2 sort.Int)) Nil)) ∷ []) }) }) ∷ []) }) (record { is_void = true; name = name_f; params = (name_p ∷ []); vars = ((name_v, sort.Val) ∷ []); pre = (record { opened = []; facts = ([]); locals = ((name_p, (Var 0 sort.Val)) ∷ []); items = ((Data (Number (pos 64)) (Var 0 sort.Val) (Of2 binary.Cons (Of unary.Vi (Number (pos 4))) Nil)) ∷ []) }); post = (record { opened = (sort.Int ∷ []); facts = ((Rel relation.Le (Number (pos 4)) (Var 2 sort.Int)) ∷ []); locals = []; items = ((Data (Number (pos 64)) (Var 0 sort.Val) (Of2 binary.Cons (Of unary.Vi (Var 2 sort.Int)) Nil)) ∷ []) }) }) (record { temps = (name_p ∷ name_t ∷ []); body = (c.Then (c.Call (Some 1) name_g ((c.Temp 0) ∷ [])) (c.Then (c.Return None) c.End)) }) (s.Then 1 (s.Share 0 (Number (pos 32)) ([])) s.NoBlock (s.Then 2 (s.Call ((Named name_v) ∷ (Number (pos 4)) ∷ []) ([]) ([]) (name_z ∷ name_m ∷ [])) s.NoBlock (s.Then 3 (s.Return ((Named name_m) ∷ []) ([]) ([])) s.NoBlock s.End))) ≡ (RefusedAt 2 13 5)
unfolding computing
conditions_425 = refl

conditions_426 : body_verdict (record { predicates = ([]); specs = ((record { is_void = true; name = name_g; params = (name_q ∷ []); vars = ((name_w, sort.Val) ∷ (name_n, sort.Int) ∷ []); pre = (record { opened = []; facts = ((Rel relation.Le (Number (pos 1)) (Var 1 sort.Int)) ∷ []); locals = ((name_q, (Var 0 sort.Val)) ∷ []); items = ((Data (Number (pos 64)) (Var 0 sort.Val) (Of2 binary.Cons (Of unary.Vi (Var 1 sort.Int)) Nil)) ∷ []) }); post = (record { opened = (sort.Int ∷ []); facts = ((Rel relation.Le (Var 1 sort.Int) (Var 3 sort.Int)) ∷ []); locals = []; items = ((Data (Number (pos 64)) (Var 0 sort.Val) (Of2 binary.Cons (Of unary.Vi (Var 3 sort.Int)) Nil)) ∷ []) }) }) ∷ (record { is_void = true; name = name_f; params = (name_p ∷ []); vars = ((name_v, sort.Val) ∷ []); pre = (record { opened = []; facts = ([]); locals = ((name_p, (Var 0 sort.Val)) ∷ []); items = ((Data (Number (pos 64)) (Var 0 sort.Val) (Of2 binary.Cons (Of unary.Vi (Number (pos 4))) Nil)) ∷ []) }); post = (record { opened = []; facts = ([]); locals = []; items = ([]) }) }) ∷ []) }) (record { is_void = true; name = name_f; params = (name_p ∷ []); vars = ((name_v, sort.Val) ∷ []); pre = (record { opened = []; facts = ([]); locals = ((name_p, (Var 0 sort.Val)) ∷ []); items = ((Data (Number (pos 64)) (Var 0 sort.Val) (Of2 binary.Cons (Of unary.Vi (Number (pos 4))) Nil)) ∷ []) }); post = (record { opened = []; facts = ([]); locals = []; items = ([]) }) }) (record { temps = (name_p ∷ []); body = (c.Then (c.Spawn name_g (c.Temp 0)) (c.Then (c.Return None) c.End)) }) (s.Then 1 (s.Share 0 (Number (pos 32)) ([])) s.NoBlock (s.Then 2 (s.Spawn ((Named name_v) ∷ (Number (pos 4)) ∷ []) ([]) ([])) s.NoBlock (s.Then 3 (s.Return ([]) ([]) ([])) s.NoBlock s.End))) ≡ (RefusedAt 2 20 5)
unfolding computing
conditions_426 = refl

conditions_427 : body_verdict (record { predicates = ((record { name = name_A; args = (sort.Int ∷ []); cases = ((record { opened = (sort.Val ∷ []); facts = ((Rel relation.Le (Number (pos 1)) (Var 0 sort.Int)) ∷ []); locals = []; items = ((Data (Number (pos 64)) (Var 1 sort.Val) (Of2 binary.Cons (Of unary.Vi (Var 0 sort.Int)) Nil)) ∷ []) }) ∷ (record { opened = []; facts = ((Rel relation.Le (Var 0 sort.Int) (Number (pos 0))) ∷ []); locals = []; items = ([]) }) ∷ []) }) ∷ []); specs = ((record { is_void = true; name = name_f; params = (name_p ∷ []); vars = ((name_v, sort.Val) ∷ []); pre = (record { opened = []; facts = ([]); locals = ((name_p, (Var 0 sort.Val)) ∷ []); items = ((Data (Number (pos 64)) (Var 0 sort.Val) (Of2 binary.Cons (Of unary.Vi (Number (pos 4))) Nil)) ∷ []) }); post = (record { opened = []; facts = ([]); locals = []; items = ((Pred (record { name = name_A; args = ((Number (pos 4)) ∷ []) })) ∷ []) }) }) ∷ []) }) (record { is_void = true; name = name_f; params = (name_p ∷ []); vars = ((name_v, sort.Val) ∷ []); pre = (record { opened = []; facts = ([]); locals = ((name_p, (Var 0 sort.Val)) ∷ []); items = ((Data (Number (pos 64)) (Var 0 sort.Val) (Of2 binary.Cons (Of unary.Vi (Number (pos 4))) Nil)) ∷ []) }); post = (record { opened = []; facts = ([]); locals = []; items = ((Pred (record { name = name_A; args = ((Number (pos 4)) ∷ []) })) ∷ []) }) }) (record { temps = (name_p ∷ []); body = (c.Then (c.Return None) c.End) }) (s.Then 1 (s.Fold name_A 0 ((Number (pos 4)) ∷ []) ((Named name_v) ∷ []) ([])) s.NoBlock (s.Then 2 (s.Return ([]) ([]) ([])) s.NoBlock s.End)) ≡ Accepted
unfolding computing
conditions_427 = refl

conditions_428 : body_verdict (record { predicates = ((record { name = name_A; args = (sort.Int ∷ []); cases = ((record { opened = (sort.Val ∷ []); facts = ((Rel relation.Le (Number (pos 1)) (Var 0 sort.Int)) ∷ []); locals = []; items = ((Data (Number (pos 64)) (Var 1 sort.Val) (Of2 binary.Cons (Of unary.Vi (Var 0 sort.Int)) Nil)) ∷ []) }) ∷ (record { opened = []; facts = ((Rel relation.Le (Var 0 sort.Int) (Number (pos 0))) ∷ []); locals = []; items = ([]) }) ∷ []) }) ∷ []); specs = ((record { is_void = true; name = name_f; params = (name_p ∷ []); vars = ((name_v, sort.Val) ∷ []); pre = (record { opened = []; facts = ([]); locals = ((name_p, (Var 0 sort.Val)) ∷ []); items = ((Data (Number (pos 64)) (Var 0 sort.Val) (Of2 binary.Cons (Of unary.Vi (Number (pos 4))) Nil)) ∷ []) }); post = (record { opened = []; facts = ([]); locals = []; items = ((Pred (record { name = name_A; args = ((Number (pos 4)) ∷ []) })) ∷ []) }) }) ∷ []) }) (record { is_void = true; name = name_f; params = (name_p ∷ []); vars = ((name_v, sort.Val) ∷ []); pre = (record { opened = []; facts = ([]); locals = ((name_p, (Var 0 sort.Val)) ∷ []); items = ((Data (Number (pos 64)) (Var 0 sort.Val) (Of2 binary.Cons (Of unary.Vi (Number (pos 4))) Nil)) ∷ []) }); post = (record { opened = []; facts = ([]); locals = []; items = ((Pred (record { name = name_A; args = ((Number (pos 4)) ∷ []) })) ∷ []) }) }) (record { temps = (name_p ∷ []); body = (c.Then (c.Return None) c.End) }) (s.Then 1 (s.Fold name_A 0 ((Number (pos 5)) ∷ []) ((Named name_v) ∷ []) ([])) s.NoBlock (s.Then 2 (s.Return ([]) ([]) ([])) s.NoBlock s.End)) ≡ (RefusedAt 1 21 5)
unfolding computing
conditions_428 = refl

conditions_429 : body_verdict (record { predicates = ((record { name = name_A; args = (sort.Int ∷ []); cases = ((record { opened = (sort.Val ∷ []); facts = ((Rel relation.Le (Number (pos 1)) (Var 0 sort.Int)) ∷ []); locals = []; items = ((Data (Number (pos 64)) (Var 1 sort.Val) (Of2 binary.Cons (Of unary.Vi (Var 0 sort.Int)) Nil)) ∷ []) }) ∷ (record { opened = []; facts = ((Rel relation.Le (Var 0 sort.Int) (Number (pos 0))) ∷ []); locals = []; items = ([]) }) ∷ []) }) ∷ []); specs = ((record { is_void = true; name = name_f; params = (name_p ∷ []); vars = ((name_v, sort.Val) ∷ []); pre = (record { opened = []; facts = ([]); locals = ((name_p, (Var 0 sort.Val)) ∷ []); items = ((Data (Number (pos 64)) (Var 0 sort.Val) (Of2 binary.Cons (Of unary.Vi (Number (pos 4))) Nil)) ∷ []) }); post = (record { opened = []; facts = ([]); locals = []; items = ((Pred (record { name = name_A; args = ((Number (pos 4)) ∷ []) })) ∷ []) }) }) ∷ []) }) (record { is_void = true; name = name_f; params = (name_p ∷ []); vars = ((name_v, sort.Val) ∷ []); pre = (record { opened = []; facts = ([]); locals = ((name_p, (Var 0 sort.Val)) ∷ []); items = ((Data (Number (pos 64)) (Var 0 sort.Val) (Of2 binary.Cons (Of unary.Vi (Number (pos 4))) Nil)) ∷ []) }); post = (record { opened = []; facts = ([]); locals = []; items = ((Pred (record { name = name_A; args = ((Number (pos 4)) ∷ []) })) ∷ []) }) }) (record { temps = (name_p ∷ []); body = (c.Then (c.Return None) c.End) }) (s.Then 1 (s.Fold name_A 0 ((Number (pos 0)) ∷ []) ((Named name_v) ∷ []) ([])) s.NoBlock (s.Then 2 (s.Return ([]) ([]) ([])) s.NoBlock s.End)) ≡ (RefusedAt 1 21 3)
unfolding computing
conditions_429 = refl

conditions_430 : body_verdict (record { predicates = ((record { name = name_A; args = (sort.Int ∷ []); cases = ((record { opened = (sort.Val ∷ []); facts = ((Rel relation.Le (Number (pos 1)) (Var 0 sort.Int)) ∷ []); locals = []; items = ((Data (Number (pos 64)) (Var 1 sort.Val) (Of2 binary.Cons (Of unary.Vi (Var 0 sort.Int)) Nil)) ∷ []) }) ∷ (record { opened = []; facts = ((Rel relation.Le (Var 0 sort.Int) (Number (pos 0))) ∷ []); locals = []; items = ([]) }) ∷ []) }) ∷ []); specs = ((record { is_void = true; name = name_f; params = (name_p ∷ []); vars = ((name_v, sort.Val) ∷ []); pre = (record { opened = []; facts = ([]); locals = ((name_p, (Var 0 sort.Val)) ∷ []); items = ((Data (Number (pos 64)) (Var 0 sort.Val) (Of2 binary.Cons (Of unary.Vi (Number (pos 4))) Nil)) ∷ []) }); post = (record { opened = []; facts = ([]); locals = []; items = ((Pred (record { name = name_A; args = ((Number (pos 4)) ∷ []) })) ∷ []) }) }) ∷ []) }) (record { is_void = true; name = name_f; params = (name_p ∷ []); vars = ((name_v, sort.Val) ∷ []); pre = (record { opened = []; facts = ([]); locals = ((name_p, (Var 0 sort.Val)) ∷ []); items = ((Data (Number (pos 64)) (Var 0 sort.Val) (Of2 binary.Cons (Of unary.Vi (Number (pos 4))) Nil)) ∷ []) }); post = (record { opened = []; facts = ([]); locals = []; items = ((Pred (record { name = name_A; args = ((Number (pos 4)) ∷ []) })) ∷ []) }) }) (record { temps = (name_p ∷ []); body = (c.Then (c.Return None) c.End) }) (s.Then 1 (s.Fold name_A 1 ((Number (pos 0)) ∷ []) ([]) ([])) s.NoBlock (s.Then 2 (s.Return ([]) ([]) ([])) s.NoBlock s.End)) ≡ (RefusedAt 2 9 5)
unfolding computing
conditions_430 = refl

conditions_431 : body_verdict (record { predicates = ((record { name = name_A; args = (sort.Int ∷ []); cases = ((record { opened = (sort.Val ∷ []); facts = ((Rel relation.Le (Number (pos 1)) (Var 0 sort.Int)) ∷ []); locals = []; items = ((Data (Number (pos 64)) (Var 1 sort.Val) (Of2 binary.Cons (Of unary.Vi (Var 0 sort.Int)) Nil)) ∷ []) }) ∷ (record { opened = []; facts = ((Rel relation.Le (Var 0 sort.Int) (Number (pos 0))) ∷ []); locals = []; items = ([]) }) ∷ []) }) ∷ []); specs = ((record { is_void = true; name = name_f; params = (name_p ∷ []); vars = ((name_v, sort.Val) ∷ []); pre = (record { opened = []; facts = ([]); locals = ((name_p, (Var 0 sort.Val)) ∷ []); items = ((Data (Number (pos 64)) (Var 0 sort.Val) (Of2 binary.Cons (Of unary.Vi (Number (pos 4))) Nil)) ∷ []) }); post = (record { opened = []; facts = ([]); locals = []; items = ((Pred (record { name = name_A; args = ((Number (pos 4)) ∷ []) })) ∷ []) }) }) ∷ []) }) (record { is_void = true; name = name_f; params = (name_p ∷ []); vars = ((name_v, sort.Val) ∷ []); pre = (record { opened = []; facts = ([]); locals = ((name_p, (Var 0 sort.Val)) ∷ []); items = ((Data (Number (pos 64)) (Var 0 sort.Val) (Of2 binary.Cons (Of unary.Vi (Number (pos 4))) Nil)) ∷ []) }); post = (record { opened = []; facts = ([]); locals = []; items = ((Pred (record { name = name_A; args = ((Number (pos 4)) ∷ []) })) ∷ []) }) }) (record { temps = (name_p ∷ []); body = (c.Then (c.Return None) c.End) }) (s.Then 1 (s.Fold name_A 2 ((Number (pos 4)) ∷ []) ((Named name_v) ∷ []) ([])) s.NoBlock (s.Then 2 (s.Return ([]) ([]) ([])) s.NoBlock s.End)) ≡ (RefusedAt 1 21 1)
unfolding computing
conditions_431 = refl

conditions_432 : body_verdict (record { predicates = ((record { name = name_A; args = (sort.Int ∷ []); cases = ((record { opened = (sort.Val ∷ []); facts = ((Rel relation.Le (Number (pos 1)) (Var 0 sort.Int)) ∷ []); locals = []; items = ((Data (Number (pos 64)) (Var 1 sort.Val) (Of2 binary.Cons (Of unary.Vi (Var 0 sort.Int)) Nil)) ∷ []) }) ∷ (record { opened = []; facts = ((Rel relation.Le (Var 0 sort.Int) (Number (pos 0))) ∷ []); locals = []; items = ([]) }) ∷ []) }) ∷ []); specs = ((record { is_void = true; name = name_f; params = (name_p ∷ []); vars = ((name_v, sort.Val) ∷ []); pre = (record { opened = []; facts = ([]); locals = ((name_p, (Var 0 sort.Val)) ∷ []); items = ((Data (Number (pos 64)) (Var 0 sort.Val) (Of2 binary.Cons (Of unary.Vi (Number (pos 4))) Nil)) ∷ []) }); post = (record { opened = []; facts = ([]); locals = []; items = ((Pred (record { name = name_A; args = ((Number (pos 4)) ∷ []) })) ∷ []) }) }) ∷ []) }) (record { is_void = true; name = name_f; params = (name_p ∷ []); vars = ((name_v, sort.Val) ∷ []); pre = (record { opened = []; facts = ([]); locals = ((name_p, (Var 0 sort.Val)) ∷ []); items = ((Data (Number (pos 64)) (Var 0 sort.Val) (Of2 binary.Cons (Of unary.Vi (Number (pos 4))) Nil)) ∷ []) }); post = (record { opened = []; facts = ([]); locals = []; items = ((Pred (record { name = name_A; args = ((Number (pos 4)) ∷ []) })) ∷ []) }) }) (record { temps = (name_p ∷ []); body = (c.Then (c.Return None) c.End) }) (s.Then 1 (s.Fold name_A 0 ((Named name_v) ∷ []) ((Named name_v) ∷ []) ([])) s.NoBlock (s.Then 2 (s.Return ([]) ([]) ([])) s.NoBlock s.End)) ≡ (RefusedAt 1 21 1)
unfolding computing
conditions_432 = refl

conditions_433 : body_verdict (record { predicates = ((record { name = name_A; args = (sort.Int ∷ []); cases = ((record { opened = (sort.Val ∷ []); facts = ((Rel relation.Le (Number (pos 1)) (Var 0 sort.Int)) ∷ []); locals = []; items = ((Data (Number (pos 64)) (Var 1 sort.Val) (Of2 binary.Cons (Of unary.Vi (Var 0 sort.Int)) Nil)) ∷ []) }) ∷ (record { opened = []; facts = ((Rel relation.Le (Var 0 sort.Int) (Number (pos 0))) ∷ []); locals = []; items = ([]) }) ∷ []) }) ∷ []); specs = ((record { is_void = true; name = name_f; params = (name_p ∷ []); vars = ((name_v, sort.Val) ∷ []); pre = (record { opened = []; facts = ([]); locals = ((name_p, (Var 0 sort.Val)) ∷ []); items = ((Data (Number (pos 64)) (Var 0 sort.Val) (Of2 binary.Cons (Of unary.Vi (Number (pos 4))) Nil)) ∷ []) }); post = (record { opened = []; facts = ([]); locals = []; items = ((Pred (record { name = name_A; args = ((Number (pos 4)) ∷ []) })) ∷ []) }) }) ∷ []) }) (record { is_void = true; name = name_f; params = (name_p ∷ []); vars = ((name_v, sort.Val) ∷ []); pre = (record { opened = []; facts = ([]); locals = ((name_p, (Var 0 sort.Val)) ∷ []); items = ((Data (Number (pos 64)) (Var 0 sort.Val) (Of2 binary.Cons (Of unary.Vi (Number (pos 4))) Nil)) ∷ []) }); post = (record { opened = []; facts = ([]); locals = []; items = ((Pred (record { name = name_A; args = ((Number (pos 4)) ∷ []) })) ∷ []) }) }) (record { temps = (name_p ∷ []); body = (c.Then (c.Return None) c.End) }) (s.Then 1 (s.Fold name_A 0 ((Number (pos 4)) ∷ []) ((Number (pos 4)) ∷ []) ([])) s.NoBlock (s.Then 2 (s.Return ([]) ([]) ([])) s.NoBlock s.End)) ≡ (RefusedAt 1 21 1)
unfolding computing
conditions_433 = refl

conditions_434 : body_verdict (record { predicates = ((record { name = name_A; args = (sort.Int ∷ []); cases = ((record { opened = (sort.Val ∷ []); facts = ((Rel relation.Le (Number (pos 1)) (Var 0 sort.Int)) ∷ []); locals = []; items = ((Data (Number (pos 64)) (Var 1 sort.Val) (Of2 binary.Cons (Of unary.Vi (Var 0 sort.Int)) Nil)) ∷ []) }) ∷ (record { opened = []; facts = ((Rel relation.Le (Var 0 sort.Int) (Number (pos 0))) ∷ []); locals = []; items = ([]) }) ∷ []) }) ∷ []); specs = ((record { is_void = true; name = name_f; params = (name_p ∷ []); vars = ((name_v, sort.Val) ∷ []); pre = (record { opened = []; facts = ([]); locals = ((name_p, (Var 0 sort.Val)) ∷ []); items = ((Data (Number (pos 64)) (Var 0 sort.Val) (Of2 binary.Cons (Of unary.Vi (Number (pos 4))) Nil)) ∷ []) }); post = (record { opened = []; facts = ([]); locals = []; items = ((Pred (record { name = name_A; args = ((Number (pos 4)) ∷ []) })) ∷ []) }) }) ∷ []) }) (record { is_void = true; name = name_f; params = (name_p ∷ []); vars = ((name_v, sort.Val) ∷ []); pre = (record { opened = []; facts = ([]); locals = ((name_p, (Var 0 sort.Val)) ∷ []); items = ((Data (Number (pos 64)) (Var 0 sort.Val) (Of2 binary.Cons (Of unary.Vi (Number (pos 4))) Nil)) ∷ []) }); post = (record { opened = []; facts = ([]); locals = []; items = ((Pred (record { name = name_A; args = ((Number (pos 4)) ∷ []) })) ∷ []) }) }) (record { temps = (name_p ∷ []); body = (c.Then (c.Return None) c.End) }) (s.Then 1 (s.Fold name_A 0 ((Number (pos 4)) ∷ []) ([]) ([])) s.NoBlock (s.Then 2 (s.Return ([]) ([]) ([])) s.NoBlock s.End)) ≡ (RefusedAt 1 21 1)
unfolding computing
conditions_434 = refl

conditions_435 : body_verdict (record { predicates = ((record { name = name_A; args = (sort.Int ∷ []); cases = ((record { opened = (sort.Val ∷ []); facts = ((Rel relation.Le (Number (pos 1)) (Var 0 sort.Int)) ∷ []); locals = []; items = ((Data (Number (pos 64)) (Var 1 sort.Val) (Of2 binary.Cons (Of unary.Vi (Var 0 sort.Int)) Nil)) ∷ []) }) ∷ (record { opened = []; facts = ((Rel relation.Le (Var 0 sort.Int) (Number (pos 0))) ∷ []); locals = []; items = ([]) }) ∷ []) }) ∷ []); specs = ((record { is_void = true; name = name_f; params = (name_p ∷ []); vars = ((name_v, sort.Val) ∷ []); pre = (record { opened = []; facts = ([]); locals = ((name_p, (Var 0 sort.Val)) ∷ []); items = ((Data (Number (pos 64)) (Var 0 sort.Val) (Of2 binary.Cons (Of unary.Vi (Number (pos 4))) Nil)) ∷ []) }); post = (record { opened = []; facts = ([]); locals = []; items = ((Pred (record { name = name_A; args = ((Number (pos 4)) ∷ []) })) ∷ []) }) }) ∷ []) }) (record { is_void = true; name = name_f; params = (name_p ∷ []); vars = ((name_v, sort.Val) ∷ []); pre = (record { opened = []; facts = ([]); locals = ((name_p, (Var 0 sort.Val)) ∷ []); items = ((Data (Number (pos 64)) (Var 0 sort.Val) (Of2 binary.Cons (Of unary.Vi (Number (pos 4))) Nil)) ∷ []) }); post = (record { opened = []; facts = ([]); locals = []; items = ((Pred (record { name = name_A; args = ((Number (pos 4)) ∷ []) })) ∷ []) }) }) (record { temps = (name_p ∷ []); body = (c.Then (c.Return None) c.End) }) (s.Then 1 (s.Fold name_A 0 ([]) ((Named name_v) ∷ []) ([])) s.NoBlock (s.Then 2 (s.Return ([]) ([]) ([])) s.NoBlock s.End)) ≡ (RefusedAt 1 21 1)
unfolding computing
conditions_435 = refl

conditions_436 : body_verdict (record { predicates = ((record { name = name_A; args = (sort.Int ∷ []); cases = ((record { opened = (sort.Val ∷ []); facts = ((Rel relation.Le (Number (pos 1)) (Var 0 sort.Int)) ∷ []); locals = []; items = ((Data (Number (pos 64)) (Var 1 sort.Val) (Of2 binary.Cons (Of unary.Vi (Var 0 sort.Int)) Nil)) ∷ []) }) ∷ (record { opened = []; facts = ((Rel relation.Le (Var 0 sort.Int) (Number (pos 0))) ∷ []); locals = []; items = ([]) }) ∷ []) }) ∷ []); specs = ((record { is_void = true; name = name_f; params = (name_p ∷ []); vars = ((name_v, sort.Val) ∷ []); pre = (record { opened = []; facts = ([]); locals = ((name_p, (Var 0 sort.Val)) ∷ []); items = ((Data (Number (pos 64)) (Var 0 sort.Val) (Of2 binary.Cons (Of unary.Vi (Number (pos 4))) Nil)) ∷ []) }); post = (record { opened = []; facts = ([]); locals = []; items = ((Pred (record { name = name_A; args = ((Number (pos 4)) ∷ []) })) ∷ []) }) }) ∷ []) }) (record { is_void = true; name = name_f; params = (name_p ∷ []); vars = ((name_v, sort.Val) ∷ []); pre = (record { opened = []; facts = ([]); locals = ((name_p, (Var 0 sort.Val)) ∷ []); items = ((Data (Number (pos 64)) (Var 0 sort.Val) (Of2 binary.Cons (Of unary.Vi (Number (pos 4))) Nil)) ∷ []) }); post = (record { opened = []; facts = ([]); locals = []; items = ((Pred (record { name = name_A; args = ((Number (pos 4)) ∷ []) })) ∷ []) }) }) (record { temps = (name_p ∷ []); body = (c.Then (c.Return None) c.End) }) (s.Then 1 (s.Fold name_A 0 ((Number (pos 4)) ∷ []) ((Named name_v) ∷ (Named name_v) ∷ []) ([])) s.NoBlock (s.Then 2 (s.Return ([]) ([]) ([])) s.NoBlock s.End)) ≡ (RefusedAt 1 21 1)
unfolding computing
conditions_436 = refl

conditions_437 : body_verdict (record { predicates = ((record { name = name_A; args = (sort.Int ∷ []); cases = ((record { opened = (sort.Val ∷ []); facts = ((Rel relation.Le (Number (pos 1)) (Var 0 sort.Int)) ∷ []); locals = []; items = ((Data (Number (pos 64)) (Var 1 sort.Val) (Of2 binary.Cons (Of unary.Vi (Var 0 sort.Int)) Nil)) ∷ []) }) ∷ (record { opened = []; facts = ((Rel relation.Le (Var 0 sort.Int) (Number (pos 0))) ∷ []); locals = []; items = ([]) }) ∷ []) }) ∷ []); specs = ((record { is_void = true; name = name_f; params = (name_p ∷ []); vars = ((name_v, sort.Val) ∷ []); pre = (record { opened = []; facts = ([]); locals = ((name_p, (Var 0 sort.Val)) ∷ []); items = ((Data (Number (pos 64)) (Var 0 sort.Val) (Of2 binary.Cons (Of unary.Vi (Number (pos 4))) Nil)) ∷ []) }); post = (record { opened = []; facts = ([]); locals = []; items = ((Pred (record { name = name_A; args = ((Number (pos 4)) ∷ []) })) ∷ []) }) }) ∷ []) }) (record { is_void = true; name = name_f; params = (name_p ∷ []); vars = ((name_v, sort.Val) ∷ []); pre = (record { opened = []; facts = ([]); locals = ((name_p, (Var 0 sort.Val)) ∷ []); items = ((Data (Number (pos 64)) (Var 0 sort.Val) (Of2 binary.Cons (Of unary.Vi (Number (pos 4))) Nil)) ∷ []) }); post = (record { opened = []; facts = ([]); locals = []; items = ((Pred (record { name = name_A; args = ((Number (pos 4)) ∷ []) })) ∷ []) }) }) (record { temps = (name_p ∷ []); body = (c.Then (c.Return None) c.End) }) (s.Then 1 (s.Fold name_Z 0 ((Number (pos 4)) ∷ []) ((Named name_v) ∷ []) ([])) s.NoBlock (s.Then 2 (s.Return ([]) ([]) ([])) s.NoBlock s.End)) ≡ (RefusedAt 1 21 7)
unfolding computing
conditions_437 = refl

conditions_438 : body_verdict (record { predicates = ((record { name = name_A; args = (sort.Int ∷ []); cases = ((record { opened = (sort.Val ∷ []); facts = ((Rel relation.Le (Number (pos 1)) (Var 0 sort.Int)) ∷ []); locals = []; items = ((Data (Number (pos 64)) (Var 1 sort.Val) (Of2 binary.Cons (Of unary.Vi (Var 0 sort.Int)) Nil)) ∷ []) }) ∷ (record { opened = []; facts = ((Rel relation.Le (Var 0 sort.Int) (Number (pos 0))) ∷ []); locals = []; items = ([]) }) ∷ []) }) ∷ []); specs = ((record { is_void = true; name = name_f; params = (name_p ∷ []); vars = ((name_v, sort.Val) ∷ []); pre = (record { opened = []; facts = ([]); locals = ((name_p, (Var 0 sort.Val)) ∷ []); items = ((Data (Number (pos 64)) (Var 0 sort.Val) (Of2 binary.Cons (Of unary.Vi (Number (pos 4))) Nil)) ∷ []) }); post = (record { opened = []; facts = ([]); locals = []; items = ((Pred (record { name = name_A; args = ((Number (pos 4)) ∷ []) })) ∷ []) }) }) ∷ []) }) (record { is_void = true; name = name_f; params = (name_p ∷ []); vars = ((name_v, sort.Val) ∷ []); pre = (record { opened = []; facts = ([]); locals = ((name_p, (Var 0 sort.Val)) ∷ []); items = ((Data (Number (pos 64)) (Var 0 sort.Val) (Of2 binary.Cons (Of unary.Vi (Number (pos 4))) Nil)) ∷ []) }); post = (record { opened = []; facts = ([]); locals = []; items = ((Pred (record { name = name_A; args = ((Number (pos 4)) ∷ []) })) ∷ []) }) }) (record { temps = (name_p ∷ []); body = (c.Then (c.Return None) c.End) }) (s.Then 1 (s.Fold name_A 0 ((Named name_z) ∷ []) ((Named name_v) ∷ []) ([])) s.NoBlock (s.Then 2 (s.Return ([]) ([]) ([])) s.NoBlock s.End)) ≡ (RefusedAt 1 21 1)
unfolding computing
conditions_438 = refl

conditions_439 : body_verdict (record { predicates = ((record { name = name_A; args = (sort.Int ∷ []); cases = ((record { opened = (sort.Val ∷ []); facts = ((Rel relation.Le (Number (pos 1)) (Var 0 sort.Int)) ∷ []); locals = []; items = ((Data (Number (pos 64)) (Var 1 sort.Val) (Of2 binary.Cons (Of unary.Vi (Var 0 sort.Int)) Nil)) ∷ []) }) ∷ (record { opened = []; facts = ((Rel relation.Le (Var 0 sort.Int) (Number (pos 0))) ∷ []); locals = []; items = ([]) }) ∷ []) }) ∷ []); specs = ((record { is_void = true; name = name_f; params = (name_p ∷ []); vars = ((name_v, sort.Val) ∷ []); pre = (record { opened = []; facts = ([]); locals = ((name_p, (Var 0 sort.Val)) ∷ []); items = ((Data (Number (pos 64)) (Var 0 sort.Val) (Of2 binary.Cons (Of unary.Vi (Number (pos 4))) Nil)) ∷ []) }); post = (record { opened = []; facts = ([]); locals = []; items = ((Pred (record { name = name_A; args = ((Number (pos 4)) ∷ []) })) ∷ []) }) }) ∷ []) }) (record { is_void = true; name = name_f; params = (name_p ∷ []); vars = ((name_v, sort.Val) ∷ []); pre = (record { opened = []; facts = ([]); locals = ((name_p, (Var 0 sort.Val)) ∷ []); items = ((Data (Number (pos 64)) (Var 0 sort.Val) (Of2 binary.Cons (Of unary.Vi (Number (pos 4))) Nil)) ∷ []) }); post = (record { opened = []; facts = ([]); locals = []; items = ((Pred (record { name = name_A; args = ((Number (pos 4)) ∷ []) })) ∷ []) }) }) (record { temps = (name_p ∷ []); body = (c.Then (c.Return None) c.End) }) (s.Then 1 (s.Fold name_A 0 ((Number (pos 4)) ∷ []) ((Named name_v) ∷ []) ((record { lines = ((line.Comb (((pos 1), 0) ∷ [])) ∷ []) }) ∷ [])) s.NoBlock (s.Then 2 (s.Return ([]) ([]) ([])) s.NoBlock s.End)) ≡ (RefusedAt 1 21 3)
unfolding computing
conditions_439 = refl

conditions_440 : body_verdict (record { predicates = ((record { name = name_A; args = (sort.Int ∷ []); cases = ((record { opened = (sort.Val ∷ []); facts = ((Rel relation.Le (Number (pos 1)) (Var 0 sort.Int)) ∷ []); locals = []; items = ((Data (Number (pos 64)) (Var 1 sort.Val) (Of2 binary.Cons (Of unary.Vi (Var 0 sort.Int)) Nil)) ∷ []) }) ∷ (record { opened = []; facts = ((Rel relation.Le (Var 0 sort.Int) (Number (pos 0))) ∷ []); locals = []; items = ([]) }) ∷ []) }) ∷ []); specs = ((record { is_void = true; name = name_f; params = (name_p ∷ []); vars = ((name_v, sort.Val) ∷ []); pre = (record { opened = []; facts = ([]); locals = ((name_p, (Var 0 sort.Val)) ∷ []); items = ((Data (Number (pos 64)) (Var 0 sort.Val) (Of2 binary.Cons (Of unary.Vi (Number (pos 4))) Nil)) ∷ []) }); post = (record { opened = []; facts = ([]); locals = []; items = ((Pred (record { name = name_A; args = ((Number (pos 4)) ∷ []) })) ∷ []) }) }) ∷ []) }) (record { is_void = true; name = name_f; params = (name_p ∷ []); vars = ((name_v, sort.Val) ∷ []); pre = (record { opened = []; facts = ([]); locals = ((name_p, (Var 0 sort.Val)) ∷ []); items = ((Data (Number (pos 64)) (Var 0 sort.Val) (Of2 binary.Cons (Of unary.Vi (Number (pos 4))) Nil)) ∷ []) }); post = (record { opened = []; facts = ([]); locals = []; items = ((Pred (record { name = name_A; args = ((Number (pos 4)) ∷ []) })) ∷ []) }) }) (record { temps = (name_p ∷ []); body = (c.Then (c.Return None) c.End) }) (s.Then 1 (s.Fold name_A 0 ((Of2 binary.Add (Number (pos 2)) (Number (pos 2))) ∷ []) ((Named name_v) ∷ []) ([])) s.NoBlock (s.Then 2 (s.Return ([]) ([]) ([])) s.NoBlock s.End)) ≡ Accepted
unfolding computing
conditions_440 = refl

conditions_441 : body_verdict (record { predicates = ((record { name = name_A; args = (sort.Int ∷ []); cases = ((record { opened = (sort.Val ∷ []); facts = ((Rel relation.Le (Number (pos 1)) (Var 0 sort.Int)) ∷ []); locals = []; items = ((Data (Number (pos 64)) (Var 1 sort.Val) (Of2 binary.Cons (Of unary.Vi (Var 0 sort.Int)) Nil)) ∷ []) }) ∷ (record { opened = []; facts = ((Rel relation.Le (Var 0 sort.Int) (Number (pos 0))) ∷ []); locals = []; items = ([]) }) ∷ []) }) ∷ []); specs = ((record { is_void = true; name = name_f; params = (name_p ∷ []); vars = ((name_n, sort.Int) ∷ []); pre = (record { opened = []; facts = ([]); locals = []; items = ((Pred (record { name = name_A; args = ((Var 0 sort.Int) ∷ []) })) ∷ []) }); post = (record { opened = []; facts = ([]); locals = []; items = ((Pred (record { name = name_A; args = ((Var 0 sort.Int) ∷ []) })) ∷ []) }) }) ∷ []) }) (record { is_void = true; name = name_f; params = (name_p ∷ []); vars = ((name_n, sort.Int) ∷ []); pre = (record { opened = []; facts = ([]); locals = []; items = ((Pred (record { name = name_A; args = ((Var 0 sort.Int) ∷ []) })) ∷ []) }); post = (record { opened = []; facts = ([]); locals = []; items = ((Pred (record { name = name_A; args = ((Var 0 sort.Int) ∷ []) })) ∷ []) }) }) (record { temps = (name_p ∷ []); body = (c.Then (c.Return None) c.End) }) (s.Then 1 (s.Unfold 0 ((name_q ∷ []) ∷ ([]) ∷ [])) (s.WithBlock (s.Then 2 (s.Return ([]) ([]) ([])) s.NoBlock s.End) (s.WithBlock (s.Then 3 (s.Return ([]) ([]) ([])) s.NoBlock s.End) s.NoBlock)) s.End) ≡ (RefusedAt 2 9 5)
unfolding computing
conditions_441 = refl

conditions_442 : body_verdict (record { predicates = ((record { name = name_A; args = (sort.Int ∷ []); cases = ((record { opened = (sort.Val ∷ []); facts = ((Rel relation.Le (Number (pos 1)) (Var 0 sort.Int)) ∷ []); locals = []; items = ((Data (Number (pos 64)) (Var 1 sort.Val) (Of2 binary.Cons (Of unary.Vi (Var 0 sort.Int)) Nil)) ∷ []) }) ∷ (record { opened = []; facts = ((Rel relation.Le (Var 0 sort.Int) (Number (pos 0))) ∷ []); locals = []; items = ([]) }) ∷ []) }) ∷ []); specs = ((record { is_void = true; name = name_f; params = (name_p ∷ []); vars = ((name_n, sort.Int) ∷ []); pre = (record { opened = []; facts = ([]); locals = []; items = ((Pred (record { name = name_A; args = ((Var 0 sort.Int) ∷ []) })) ∷ []) }); post = (record { opened = []; facts = ([]); locals = []; items = ((Pred (record { name = name_A; args = ((Var 0 sort.Int) ∷ []) })) ∷ []) }) }) ∷ []) }) (record { is_void = true; name = name_f; params = (name_p ∷ []); vars = ((name_n, sort.Int) ∷ []); pre = (record { opened = []; facts = ([]); locals = []; items = ((Pred (record { name = name_A; args = ((Var 0 sort.Int) ∷ []) })) ∷ []) }); post = (record { opened = []; facts = ([]); locals = []; items = ((Pred (record { name = name_A; args = ((Var 0 sort.Int) ∷ []) })) ∷ []) }) }) (record { temps = (name_p ∷ []); body = (c.Then (c.Return None) c.End) }) (s.Then 1 (s.Unfold 0 ((name_q ∷ []) ∷ ([]) ∷ [])) (s.WithBlock (s.Then 2 (s.Return ((Named name_q) ∷ []) ([]) ([])) s.NoBlock s.End) (s.WithBlock (s.Then 3 (s.Absurd ([])) s.NoBlock s.End) s.NoBlock)) s.End) ≡ (RefusedAt 2 9 1)
unfolding computing
conditions_442 = refl

conditions_443 : body_verdict (record { predicates = ((record { name = name_A; args = (sort.Int ∷ []); cases = ((record { opened = (sort.Val ∷ []); facts = ((Rel relation.Le (Number (pos 1)) (Var 0 sort.Int)) ∷ []); locals = []; items = ((Data (Number (pos 64)) (Var 1 sort.Val) (Of2 binary.Cons (Of unary.Vi (Var 0 sort.Int)) Nil)) ∷ []) }) ∷ (record { opened = []; facts = ((Rel relation.Le (Var 0 sort.Int) (Number (pos 0))) ∷ []); locals = []; items = ([]) }) ∷ []) }) ∷ []); specs = ((record { is_void = true; name = name_f; params = (name_p ∷ []); vars = ((name_n, sort.Int) ∷ []); pre = (record { opened = []; facts = ([]); locals = []; items = ((Pred (record { name = name_A; args = ((Var 0 sort.Int) ∷ []) })) ∷ []) }); post = (record { opened = []; facts = ([]); locals = []; items = ((Pred (record { name = name_A; args = ((Var 0 sort.Int) ∷ []) })) ∷ []) }) }) ∷ []) }) (record { is_void = true; name = name_f; params = (name_p ∷ []); vars = ((name_n, sort.Int) ∷ []); pre = (record { opened = []; facts = ([]); locals = []; items = ((Pred (record { name = name_A; args = ((Var 0 sort.Int) ∷ []) })) ∷ []) }); post = (record { opened = []; facts = ([]); locals = []; items = ((Pred (record { name = name_A; args = ((Var 0 sort.Int) ∷ []) })) ∷ []) }) }) (record { temps = (name_p ∷ []); body = (c.Then (c.Return None) c.End) }) (s.Then 1 (s.Unfold 0 ((name_q ∷ []) ∷ [])) (s.WithBlock (s.Then 2 (s.Return ([]) ([]) ([])) s.NoBlock s.End) s.NoBlock) s.End) ≡ (RefusedAt 1 22 1)
unfolding computing
conditions_443 = refl

conditions_444 : body_verdict (record { predicates = ((record { name = name_A; args = (sort.Int ∷ []); cases = ((record { opened = (sort.Val ∷ []); facts = ((Rel relation.Le (Number (pos 1)) (Var 0 sort.Int)) ∷ []); locals = []; items = ((Data (Number (pos 64)) (Var 1 sort.Val) (Of2 binary.Cons (Of unary.Vi (Var 0 sort.Int)) Nil)) ∷ []) }) ∷ (record { opened = []; facts = ((Rel relation.Le (Var 0 sort.Int) (Number (pos 0))) ∷ []); locals = []; items = ([]) }) ∷ []) }) ∷ []); specs = ((record { is_void = true; name = name_f; params = (name_p ∷ []); vars = ((name_n, sort.Int) ∷ []); pre = (record { opened = []; facts = ([]); locals = []; items = ((Pred (record { name = name_A; args = ((Var 0 sort.Int) ∷ []) })) ∷ []) }); post = (record { opened = []; facts = ([]); locals = []; items = ((Pred (record { name = name_A; args = ((Var 0 sort.Int) ∷ []) })) ∷ []) }) }) ∷ []) }) (record { is_void = true; name = name_f; params = (name_p ∷ []); vars = ((name_n, sort.Int) ∷ []); pre = (record { opened = []; facts = ([]); locals = []; items = ((Pred (record { name = name_A; args = ((Var 0 sort.Int) ∷ []) })) ∷ []) }); post = (record { opened = []; facts = ([]); locals = []; items = ((Pred (record { name = name_A; args = ((Var 0 sort.Int) ∷ []) })) ∷ []) }) }) (record { temps = (name_p ∷ []); body = (c.Then (c.Return None) c.End) }) (s.Then 1 (s.Unfold 0 ((name_q ∷ []) ∷ ([]) ∷ ([]) ∷ [])) (s.WithBlock (s.Then 2 (s.Return ([]) ([]) ([])) s.NoBlock s.End) (s.WithBlock (s.Then 3 (s.Return ([]) ([]) ([])) s.NoBlock s.End) (s.WithBlock (s.Then 4 (s.Return ([]) ([]) ([])) s.NoBlock s.End) s.NoBlock))) s.End) ≡ (RefusedAt 1 22 1)
unfolding computing
conditions_444 = refl

conditions_445 : body_verdict (record { predicates = ((record { name = name_A; args = (sort.Int ∷ []); cases = ((record { opened = (sort.Val ∷ []); facts = ((Rel relation.Le (Number (pos 1)) (Var 0 sort.Int)) ∷ []); locals = []; items = ((Data (Number (pos 64)) (Var 1 sort.Val) (Of2 binary.Cons (Of unary.Vi (Var 0 sort.Int)) Nil)) ∷ []) }) ∷ (record { opened = []; facts = ((Rel relation.Le (Var 0 sort.Int) (Number (pos 0))) ∷ []); locals = []; items = ([]) }) ∷ []) }) ∷ []); specs = ((record { is_void = true; name = name_f; params = (name_p ∷ []); vars = ((name_n, sort.Int) ∷ []); pre = (record { opened = []; facts = ([]); locals = []; items = ((Pred (record { name = name_A; args = ((Var 0 sort.Int) ∷ []) })) ∷ []) }); post = (record { opened = []; facts = ([]); locals = []; items = ((Pred (record { name = name_A; args = ((Var 0 sort.Int) ∷ []) })) ∷ []) }) }) ∷ []) }) (record { is_void = true; name = name_f; params = (name_p ∷ []); vars = ((name_n, sort.Int) ∷ []); pre = (record { opened = []; facts = ([]); locals = []; items = ((Pred (record { name = name_A; args = ((Var 0 sort.Int) ∷ []) })) ∷ []) }); post = (record { opened = []; facts = ([]); locals = []; items = ((Pred (record { name = name_A; args = ((Var 0 sort.Int) ∷ []) })) ∷ []) }) }) (record { temps = (name_p ∷ []); body = (c.Then (c.Return None) c.End) }) (s.Then 1 (s.Unfold 1 ((name_q ∷ []) ∷ ([]) ∷ [])) (s.WithBlock (s.Then 2 (s.Return ([]) ([]) ([])) s.NoBlock s.End) (s.WithBlock (s.Then 3 (s.Return ([]) ([]) ([])) s.NoBlock s.End) s.NoBlock)) s.End) ≡ (RefusedAt 1 22 1)
unfolding computing
conditions_445 = refl

conditions_446 : body_verdict (record { predicates = ((record { name = name_A; args = (sort.Int ∷ []); cases = ((record { opened = (sort.Val ∷ []); facts = ((Rel relation.Le (Number (pos 1)) (Var 0 sort.Int)) ∷ []); locals = []; items = ((Data (Number (pos 64)) (Var 1 sort.Val) (Of2 binary.Cons (Of unary.Vi (Var 0 sort.Int)) Nil)) ∷ []) }) ∷ (record { opened = []; facts = ((Rel relation.Le (Var 0 sort.Int) (Number (pos 0))) ∷ []); locals = []; items = ([]) }) ∷ []) }) ∷ []); specs = ((record { is_void = true; name = name_f; params = (name_p ∷ []); vars = ((name_n, sort.Int) ∷ []); pre = (record { opened = []; facts = ([]); locals = []; items = ((Pred (record { name = name_A; args = ((Var 0 sort.Int) ∷ []) })) ∷ []) }); post = (record { opened = []; facts = ([]); locals = []; items = ((Pred (record { name = name_A; args = ((Var 0 sort.Int) ∷ []) })) ∷ []) }) }) ∷ []) }) (record { is_void = true; name = name_f; params = (name_p ∷ []); vars = ((name_n, sort.Int) ∷ []); pre = (record { opened = []; facts = ([]); locals = []; items = ((Pred (record { name = name_A; args = ((Var 0 sort.Int) ∷ []) })) ∷ []) }); post = (record { opened = []; facts = ([]); locals = []; items = ((Pred (record { name = name_A; args = ((Var 0 sort.Int) ∷ []) })) ∷ []) }) }) (record { temps = (name_p ∷ []); body = (c.Then (c.Return None) c.End) }) (s.Then 1 (s.Unfold 0 (([]) ∷ ([]) ∷ [])) (s.WithBlock (s.Then 2 (s.Return ([]) ([]) ([])) s.NoBlock s.End) (s.WithBlock (s.Then 3 (s.Return ([]) ([]) ([])) s.NoBlock s.End) s.NoBlock)) s.End) ≡ (RefusedAt 1 22 6)
unfolding computing
conditions_446 = refl

conditions_447 : body_verdict (record { predicates = ((record { name = name_A; args = (sort.Int ∷ []); cases = ((record { opened = (sort.Val ∷ []); facts = ((Rel relation.Le (Number (pos 1)) (Var 0 sort.Int)) ∷ []); locals = []; items = ((Data (Number (pos 64)) (Var 1 sort.Val) (Of2 binary.Cons (Of unary.Vi (Var 0 sort.Int)) Nil)) ∷ []) }) ∷ (record { opened = []; facts = ((Rel relation.Le (Var 0 sort.Int) (Number (pos 0))) ∷ []); locals = []; items = ([]) }) ∷ []) }) ∷ []); specs = ((record { is_void = true; name = name_f; params = (name_p ∷ []); vars = ((name_n, sort.Int) ∷ []); pre = (record { opened = []; facts = ([]); locals = []; items = ((Pred (record { name = name_A; args = ((Var 0 sort.Int) ∷ []) })) ∷ []) }); post = (record { opened = []; facts = ([]); locals = []; items = ((Pred (record { name = name_A; args = ((Var 0 sort.Int) ∷ []) })) ∷ []) }) }) ∷ []) }) (record { is_void = true; name = name_f; params = (name_p ∷ []); vars = ((name_n, sort.Int) ∷ []); pre = (record { opened = []; facts = ([]); locals = []; items = ((Pred (record { name = name_A; args = ((Var 0 sort.Int) ∷ []) })) ∷ []) }); post = (record { opened = []; facts = ([]); locals = []; items = ((Pred (record { name = name_A; args = ((Var 0 sort.Int) ∷ []) })) ∷ []) }) }) (record { temps = (name_p ∷ []); body = (c.Then (c.Return None) c.End) }) (s.Then 1 (s.Unfold 0 ((name_n ∷ []) ∷ ([]) ∷ [])) (s.WithBlock (s.Then 2 (s.Absurd ([])) s.NoBlock s.End) (s.WithBlock (s.Then 3 (s.Return ([]) ([]) ([])) s.NoBlock s.End) s.NoBlock)) s.End) ≡ (RefusedAt 1 22 6)
unfolding computing
conditions_447 = refl

conditions_448 : body_verdict (record { predicates = ((record { name = name_A; args = (sort.Int ∷ []); cases = ((record { opened = (sort.Val ∷ []); facts = ((Rel relation.Le (Number (pos 1)) (Var 0 sort.Int)) ∷ []); locals = []; items = ((Data (Number (pos 64)) (Var 1 sort.Val) (Of2 binary.Cons (Of unary.Vi (Var 0 sort.Int)) Nil)) ∷ []) }) ∷ (record { opened = []; facts = ((Rel relation.Le (Var 0 sort.Int) (Number (pos 0))) ∷ []); locals = []; items = ([]) }) ∷ []) }) ∷ []); specs = ((record { is_void = true; name = name_f; params = (name_p ∷ []); vars = ((name_n, sort.Int) ∷ []); pre = (record { opened = []; facts = ([]); locals = []; items = ((Pred (record { name = name_A; args = ((Var 0 sort.Int) ∷ []) })) ∷ []) }); post = (record { opened = []; facts = ([]); locals = []; items = ((Pred (record { name = name_A; args = ((Var 0 sort.Int) ∷ []) })) ∷ []) }) }) ∷ []) }) (record { is_void = true; name = name_f; params = (name_p ∷ []); vars = ((name_n, sort.Int) ∷ []); pre = (record { opened = []; facts = ([]); locals = []; items = ((Pred (record { name = name_A; args = ((Var 0 sort.Int) ∷ []) })) ∷ []) }); post = (record { opened = []; facts = ([]); locals = []; items = ((Pred (record { name = name_A; args = ((Var 0 sort.Int) ∷ []) })) ∷ []) }) }) (record { temps = (name_p ∷ []); body = (c.Then (c.Return None) c.End) }) (s.Then 1 (s.Unfold 0 ((name_q ∷ name_r ∷ []) ∷ ([]) ∷ [])) (s.WithBlock (s.Then 2 (s.Return ([]) ([]) ([])) s.NoBlock s.End) (s.WithBlock (s.Then 3 (s.Return ([]) ([]) ([])) s.NoBlock s.End) s.NoBlock)) s.End) ≡ (RefusedAt 1 22 6)
unfolding computing
conditions_448 = refl

conditions_449 : body_verdict (record { predicates = ((record { name = name_A; args = (sort.Int ∷ []); cases = ((record { opened = (sort.Val ∷ []); facts = ((Rel relation.Le (Number (pos 1)) (Var 0 sort.Int)) ∷ []); locals = []; items = ((Data (Number (pos 64)) (Var 1 sort.Val) (Of2 binary.Cons (Of unary.Vi (Var 0 sort.Int)) Nil)) ∷ []) }) ∷ (record { opened = []; facts = ((Rel relation.Le (Var 0 sort.Int) (Number (pos 0))) ∷ []); locals = []; items = ([]) }) ∷ []) }) ∷ []); specs = ((record { is_void = true; name = name_f; params = (name_p ∷ []); vars = ((name_n, sort.Int) ∷ []); pre = (record { opened = []; facts = ([]); locals = []; items = ((Pred (record { name = name_A; args = ((Var 0 sort.Int) ∷ []) })) ∷ []) }); post = (record { opened = []; facts = ([]); locals = []; items = ((Pred (record { name = name_A; args = ((Var 0 sort.Int) ∷ []) })) ∷ []) }) }) ∷ []) }) (record { is_void = true; name = name_f; params = (name_p ∷ []); vars = ((name_n, sort.Int) ∷ []); pre = (record { opened = []; facts = ([]); locals = []; items = ((Pred (record { name = name_A; args = ((Var 0 sort.Int) ∷ []) })) ∷ []) }); post = (record { opened = []; facts = ([]); locals = []; items = ((Pred (record { name = name_A; args = ((Var 0 sort.Int) ∷ []) })) ∷ []) }) }) (record { temps = (name_p ∷ []); body = (c.Then (c.Return None) c.End) }) (s.Then 1 (s.Unfold 0 ((name_q ∷ []) ∷ (name_k ∷ []) ∷ [])) (s.WithBlock (s.Then 2 (s.Return ([]) ([]) ([])) s.NoBlock s.End) (s.WithBlock (s.Then 3 (s.Return ([]) ([]) ([])) s.NoBlock s.End) s.NoBlock)) s.End) ≡ (RefusedAt 1 22 6)
unfolding computing
conditions_449 = refl

conditions_450 : body_verdict (record { predicates = ((record { name = name_A; args = (sort.Int ∷ []); cases = ((record { opened = (sort.Val ∷ []); facts = ((Rel relation.Le (Number (pos 1)) (Var 0 sort.Int)) ∷ []); locals = []; items = ((Data (Number (pos 64)) (Var 1 sort.Val) (Of2 binary.Cons (Of unary.Vi (Var 0 sort.Int)) Nil)) ∷ []) }) ∷ (record { opened = []; facts = ((Rel relation.Le (Var 0 sort.Int) (Number (pos 0))) ∷ []); locals = []; items = ([]) }) ∷ []) }) ∷ []); specs = ((record { is_void = true; name = name_f; params = (name_p ∷ []); vars = ((name_n, sort.Int) ∷ []); pre = (record { opened = []; facts = ([]); locals = []; items = ((Pred (record { name = name_A; args = ((Var 0 sort.Int) ∷ []) })) ∷ []) }); post = (record { opened = []; facts = ([]); locals = []; items = ((Pred (record { name = name_A; args = ((Var 0 sort.Int) ∷ []) })) ∷ []) }) }) ∷ []) }) (record { is_void = true; name = name_f; params = (name_p ∷ []); vars = ((name_n, sort.Int) ∷ []); pre = (record { opened = []; facts = ([]); locals = []; items = ((Pred (record { name = name_A; args = ((Var 0 sort.Int) ∷ []) })) ∷ []) }); post = (record { opened = []; facts = ([]); locals = []; items = ((Pred (record { name = name_A; args = ((Var 0 sort.Int) ∷ []) })) ∷ []) }) }) (record { temps = (name_p ∷ []); body = (c.Then (c.Return None) c.End) }) (s.Then 1 (s.Unfold 0 ((name_q ∷ []) ∷ ([]) ∷ [])) (s.WithBlock (s.Then 2 (s.Have (Rel relation.Le (Number (pos 1)) (Named name_n)) ([])) s.NoBlock (s.Then 3 (s.Fold name_A 0 ((Named name_n) ∷ []) ((Named name_q) ∷ []) ([])) s.NoBlock (s.Then 4 (s.Return ([]) ([]) ([])) s.NoBlock s.End))) (s.WithBlock (s.Then 5 (s.Have (Rel relation.Le (Named name_n) (Number (pos 0))) ([])) s.NoBlock (s.Then 6 (s.Fold name_A 1 ((Named name_n) ∷ []) ([]) ([])) s.NoBlock (s.Then 7 (s.Return ([]) ([]) ([])) s.NoBlock s.End))) s.NoBlock)) s.End) ≡ Accepted
unfolding computing
conditions_450 = refl

conditions_451 : body_verdict (record { predicates = ((record { name = name_A; args = (sort.Int ∷ []); cases = ((record { opened = (sort.Val ∷ []); facts = ((Rel relation.Le (Number (pos 1)) (Var 0 sort.Int)) ∷ []); locals = []; items = ((Data (Number (pos 64)) (Var 1 sort.Val) (Of2 binary.Cons (Of unary.Vi (Var 0 sort.Int)) Nil)) ∷ []) }) ∷ (record { opened = []; facts = ((Rel relation.Le (Var 0 sort.Int) (Number (pos 0))) ∷ []); locals = []; items = ([]) }) ∷ []) }) ∷ []); specs = ((record { is_void = true; name = name_f; params = (name_p ∷ []); vars = ((name_n, sort.Int) ∷ []); pre = (record { opened = []; facts = ([]); locals = []; items = ((Pred (record { name = name_A; args = ((Var 0 sort.Int) ∷ []) })) ∷ []) }); post = (record { opened = []; facts = ([]); locals = []; items = ((Pred (record { name = name_A; args = ((Var 0 sort.Int) ∷ []) })) ∷ []) }) }) ∷ []) }) (record { is_void = true; name = name_f; params = (name_p ∷ []); vars = ((name_n, sort.Int) ∷ []); pre = (record { opened = []; facts = ([]); locals = []; items = ((Pred (record { name = name_A; args = ((Var 0 sort.Int) ∷ []) })) ∷ []) }); post = (record { opened = []; facts = ([]); locals = []; items = ((Pred (record { name = name_A; args = ((Var 0 sort.Int) ∷ []) })) ∷ []) }) }) (record { temps = (name_p ∷ []); body = (c.Then (c.Return None) c.End) }) (s.Then 1 (s.Unfold 0 ((name_q ∷ []) ∷ ([]) ∷ [])) (s.WithBlock (s.Then 2 (s.Fold name_A 0 ((Named name_n) ∷ []) ((Named name_q) ∷ []) ([])) s.NoBlock (s.Then 3 (s.Return ([]) ([]) ([])) s.NoBlock s.End)) (s.WithBlock (s.Then 4 (s.Fold name_A 0 ((Named name_n) ∷ []) ([]) ([])) s.NoBlock (s.Then 5 (s.Return ([]) ([]) ([])) s.NoBlock s.End)) s.NoBlock)) s.End) ≡ (RefusedAt 4 21 1)
unfolding computing
conditions_451 = refl

conditions_452 : body_verdict (record { predicates = ([]); specs = ((record { is_void = true; name = name_f; params = (name_p ∷ []); vars = ((name_s, sort.Int) ∷ (name_t, sort.Int) ∷ (name_v, sort.Val) ∷ (name_w, sort.Val) ∷ (name_k, sort.List) ∷ (name_m, sort.List) ∷ []); pre = (record { opened = []; facts = ([]); locals = []; items = ((Data (Var 0 sort.Int) (Var 2 sort.Val) (Var 4 sort.List)) ∷ (Data (Var 1 sort.Int) (Var 3 sort.Val) (Var 5 sort.List)) ∷ []) }); post = (record { opened = []; facts = ([]); locals = []; items = ((Data (Var 0 sort.Int) (Var 2 sort.Val) (Var 4 sort.List)) ∷ (Data (Var 1 sort.Int) (Var 3 sort.Val) (Var 5 sort.List)) ∷ []) }) }) ∷ []) }) (record { is_void = true; name = name_f; params = (name_p ∷ []); vars = ((name_s, sort.Int) ∷ (name_t, sort.Int) ∷ (name_v, sort.Val) ∷ (name_w, sort.Val) ∷ (name_k, sort.List) ∷ (name_m, sort.List) ∷ []); pre = (record { opened = []; facts = ([]); locals = []; items = ((Data (Var 0 sort.Int) (Var 2 sort.Val) (Var 4 sort.List)) ∷ (Data (Var 1 sort.Int) (Var 3 sort.Val) (Var 5 sort.List)) ∷ []) }); post = (record { opened = []; facts = ([]); locals = []; items = ((Data (Var 0 sort.Int) (Var 2 sort.Val) (Var 4 sort.List)) ∷ (Data (Var 1 sort.Int) (Var 3 sort.Val) (Var 5 sort.List)) ∷ []) }) }) (record { temps = (name_p ∷ []); body = (c.Then (c.Return None) c.End) }) (s.Then 1 (s.Split (Rel relation.Le (Named name_s) (Named name_t)) (name_k ∷ []) ([])) (s.WithBlock (s.Then 2 (s.Return ([]) ([]) ([])) s.NoBlock s.End) (s.WithBlock (s.Then 3 (s.Return ([]) ([]) ([])) s.NoBlock s.End) s.NoBlock)) s.End) ≡ (RefusedAt 1 23 6)
unfolding computing
conditions_452 = refl

conditions_453 : body_verdict (record { predicates = ([]); specs = ((record { is_void = true; name = name_f; params = (name_p ∷ []); vars = ((name_s, sort.Int) ∷ (name_t, sort.Int) ∷ (name_v, sort.Val) ∷ (name_w, sort.Val) ∷ (name_k, sort.List) ∷ (name_m, sort.List) ∷ []); pre = (record { opened = []; facts = ([]); locals = []; items = ((Data (Var 0 sort.Int) (Var 2 sort.Val) (Var 4 sort.List)) ∷ (Data (Var 1 sort.Int) (Var 3 sort.Val) (Var 5 sort.List)) ∷ []) }); post = (record { opened = []; facts = ([]); locals = []; items = ((Data (Var 0 sort.Int) (Var 2 sort.Val) (Var 4 sort.List)) ∷ (Data (Var 1 sort.Int) (Var 3 sort.Val) (Var 5 sort.List)) ∷ []) }) }) ∷ []) }) (record { is_void = true; name = name_f; params = (name_p ∷ []); vars = ((name_s, sort.Int) ∷ (name_t, sort.Int) ∷ (name_v, sort.Val) ∷ (name_w, sort.Val) ∷ (name_k, sort.List) ∷ (name_m, sort.List) ∷ []); pre = (record { opened = []; facts = ([]); locals = []; items = ((Data (Var 0 sort.Int) (Var 2 sort.Val) (Var 4 sort.List)) ∷ (Data (Var 1 sort.Int) (Var 3 sort.Val) (Var 5 sort.List)) ∷ []) }); post = (record { opened = []; facts = ([]); locals = []; items = ((Data (Var 0 sort.Int) (Var 2 sort.Val) (Var 4 sort.List)) ∷ (Data (Var 1 sort.Int) (Var 3 sort.Val) (Var 5 sort.List)) ∷ []) }) }) (record { temps = (name_p ∷ []); body = (c.Then (c.Return None) c.End) }) (s.Then 1 (s.Split (Rel relation.Le (Named name_s) (Named name_t)) ([]) (name_k ∷ [])) (s.WithBlock (s.Then 2 (s.Return ([]) ([]) ([])) s.NoBlock s.End) (s.WithBlock (s.Then 3 (s.Return ([]) ([]) ([])) s.NoBlock s.End) s.NoBlock)) s.End) ≡ (RefusedAt 1 23 6)
unfolding computing
conditions_453 = refl

conditions_454 : body_verdict (record { predicates = ([]); specs = ((record { is_void = true; name = name_f; params = (name_p ∷ []); vars = ((name_s, sort.Int) ∷ (name_t, sort.Int) ∷ (name_v, sort.Val) ∷ (name_w, sort.Val) ∷ (name_k, sort.List) ∷ (name_m, sort.List) ∷ []); pre = (record { opened = []; facts = ([]); locals = []; items = ((Data (Var 0 sort.Int) (Var 2 sort.Val) (Var 4 sort.List)) ∷ (Data (Var 1 sort.Int) (Var 3 sort.Val) (Var 5 sort.List)) ∷ []) }); post = (record { opened = []; facts = ([]); locals = []; items = ((Data (Var 0 sort.Int) (Var 2 sort.Val) (Var 4 sort.List)) ∷ (Data (Var 1 sort.Int) (Var 3 sort.Val) (Var 5 sort.List)) ∷ []) }) }) ∷ []) }) (record { is_void = true; name = name_f; params = (name_p ∷ []); vars = ((name_s, sort.Int) ∷ (name_t, sort.Int) ∷ (name_v, sort.Val) ∷ (name_w, sort.Val) ∷ (name_k, sort.List) ∷ (name_m, sort.List) ∷ []); pre = (record { opened = []; facts = ([]); locals = []; items = ((Data (Var 0 sort.Int) (Var 2 sort.Val) (Var 4 sort.List)) ∷ (Data (Var 1 sort.Int) (Var 3 sort.Val) (Var 5 sort.List)) ∷ []) }); post = (record { opened = []; facts = ([]); locals = []; items = ((Data (Var 0 sort.Int) (Var 2 sort.Val) (Var 4 sort.List)) ∷ (Data (Var 1 sort.Int) (Var 3 sort.Val) (Var 5 sort.List)) ∷ []) }) }) (record { temps = (name_p ∷ []); body = (c.Then (c.Return None) c.End) }) (s.Then 1 (s.Split (Rel relation.Le (Named name_v) (Named name_t)) ([]) ([])) (s.WithBlock (s.Then 2 (s.Return ([]) ([]) ([])) s.NoBlock s.End) (s.WithBlock (s.Then 3 (s.Return ([]) ([]) ([])) s.NoBlock s.End) s.NoBlock)) s.End) ≡ (RefusedAt 1 23 1)
unfolding computing
conditions_454 = refl

conditions_455 : body_verdict (record { predicates = ([]); specs = ((record { is_void = true; name = name_f; params = (name_p ∷ []); vars = ((name_s, sort.Int) ∷ (name_t, sort.Int) ∷ (name_v, sort.Val) ∷ (name_w, sort.Val) ∷ (name_k, sort.List) ∷ (name_m, sort.List) ∷ []); pre = (record { opened = []; facts = ([]); locals = []; items = ((Data (Var 0 sort.Int) (Var 2 sort.Val) (Var 4 sort.List)) ∷ (Data (Var 1 sort.Int) (Var 3 sort.Val) (Var 5 sort.List)) ∷ []) }); post = (record { opened = []; facts = ([]); locals = []; items = ((Data (Var 0 sort.Int) (Var 2 sort.Val) (Var 4 sort.List)) ∷ (Data (Var 1 sort.Int) (Var 3 sort.Val) (Var 5 sort.List)) ∷ []) }) }) ∷ []) }) (record { is_void = true; name = name_f; params = (name_p ∷ []); vars = ((name_s, sort.Int) ∷ (name_t, sort.Int) ∷ (name_v, sort.Val) ∷ (name_w, sort.Val) ∷ (name_k, sort.List) ∷ (name_m, sort.List) ∷ []); pre = (record { opened = []; facts = ([]); locals = []; items = ((Data (Var 0 sort.Int) (Var 2 sort.Val) (Var 4 sort.List)) ∷ (Data (Var 1 sort.Int) (Var 3 sort.Val) (Var 5 sort.List)) ∷ []) }); post = (record { opened = []; facts = ([]); locals = []; items = ((Data (Var 0 sort.Int) (Var 2 sort.Val) (Var 4 sort.List)) ∷ (Data (Var 1 sort.Int) (Var 3 sort.Val) (Var 5 sort.List)) ∷ []) }) }) (record { temps = (name_p ∷ []); body = (c.Then (c.Return None) c.End) }) (s.Then 1 (s.Split (IsPtr (Named name_v)) ([]) ([])) (s.WithBlock (s.Then 2 (s.Return ([]) ([]) ([])) s.NoBlock s.End) (s.WithBlock (s.Then 3 (s.Return ([]) ([]) ([])) s.NoBlock s.End) s.NoBlock)) s.End) ≡ (RefusedAt 1 23 1)
unfolding computing
conditions_455 = refl

conditions_456 : body_verdict (record { predicates = ([]); specs = ((record { is_void = true; name = name_f; params = (name_p ∷ []); vars = ((name_s, sort.Int) ∷ (name_t, sort.Int) ∷ (name_v, sort.Val) ∷ (name_w, sort.Val) ∷ (name_k, sort.List) ∷ (name_m, sort.List) ∷ []); pre = (record { opened = []; facts = ([]); locals = []; items = ((Data (Var 0 sort.Int) (Var 2 sort.Val) (Var 4 sort.List)) ∷ (Data (Var 1 sort.Int) (Var 3 sort.Val) (Var 5 sort.List)) ∷ []) }); post = (record { opened = []; facts = ([]); locals = []; items = ((Data (Var 0 sort.Int) (Var 2 sort.Val) (Var 4 sort.List)) ∷ (Data (Var 1 sort.Int) (Var 3 sort.Val) (Var 5 sort.List)) ∷ []) }) }) ∷ []) }) (record { is_void = true; name = name_f; params = (name_p ∷ []); vars = ((name_s, sort.Int) ∷ (name_t, sort.Int) ∷ (name_v, sort.Val) ∷ (name_w, sort.Val) ∷ (name_k, sort.List) ∷ (name_m, sort.List) ∷ []); pre = (record { opened = []; facts = ([]); locals = []; items = ((Data (Var 0 sort.Int) (Var 2 sort.Val) (Var 4 sort.List)) ∷ (Data (Var 1 sort.Int) (Var 3 sort.Val) (Var 5 sort.List)) ∷ []) }); post = (record { opened = []; facts = ([]); locals = []; items = ((Data (Var 0 sort.Int) (Var 2 sort.Val) (Var 4 sort.List)) ∷ (Data (Var 1 sort.Int) (Var 3 sort.Val) (Var 5 sort.List)) ∷ []) }) }) (record { temps = (name_p ∷ []); body = (c.Then (c.Return None) c.End) }) (s.Then 1 (s.Split (Rel relation.Eq (Named name_s) (Named name_t)) ([]) ([])) (s.WithBlock (s.Then 2 (s.Have (Rel relation.Eq (Named name_s) (Named name_t)) ([])) s.NoBlock (s.Then 3 (s.Return ([]) ([]) ([])) s.NoBlock s.End)) (s.WithBlock (s.Then 4 (s.Have (Rel relation.Ne (Named name_s) (Named name_t)) ([])) s.NoBlock (s.Then 5 (s.Return ([]) ([]) ([])) s.NoBlock s.End)) s.NoBlock)) s.End) ≡ Accepted
unfolding computing
conditions_456 = refl

conditions_457 : body_verdict (record { predicates = ([]); specs = ((record { is_void = true; name = name_f; params = (name_p ∷ []); vars = ((name_s, sort.Int) ∷ (name_t, sort.Int) ∷ (name_v, sort.Val) ∷ (name_w, sort.Val) ∷ (name_k, sort.List) ∷ (name_m, sort.List) ∷ []); pre = (record { opened = []; facts = ([]); locals = []; items = ((Data (Var 0 sort.Int) (Var 2 sort.Val) (Var 4 sort.List)) ∷ (Data (Var 1 sort.Int) (Var 3 sort.Val) (Var 5 sort.List)) ∷ []) }); post = (record { opened = []; facts = ([]); locals = []; items = ((Data (Var 0 sort.Int) (Var 2 sort.Val) (Var 4 sort.List)) ∷ (Data (Var 1 sort.Int) (Var 3 sort.Val) (Var 5 sort.List)) ∷ []) }) }) ∷ []) }) (record { is_void = true; name = name_f; params = (name_p ∷ []); vars = ((name_s, sort.Int) ∷ (name_t, sort.Int) ∷ (name_v, sort.Val) ∷ (name_w, sort.Val) ∷ (name_k, sort.List) ∷ (name_m, sort.List) ∷ []); pre = (record { opened = []; facts = ([]); locals = []; items = ((Data (Var 0 sort.Int) (Var 2 sort.Val) (Var 4 sort.List)) ∷ (Data (Var 1 sort.Int) (Var 3 sort.Val) (Var 5 sort.List)) ∷ []) }); post = (record { opened = []; facts = ([]); locals = []; items = ((Data (Var 0 sort.Int) (Var 2 sort.Val) (Var 4 sort.List)) ∷ (Data (Var 1 sort.Int) (Var 3 sort.Val) (Var 5 sort.List)) ∷ []) }) }) (record { temps = (name_p ∷ []); body = (c.Then (c.Return None) c.End) }) (s.Then 1 (s.Split (Rel relation.Lt (Named name_s) (Named name_t)) ([]) ([])) (s.WithBlock (s.Then 2 (s.Have (Rel relation.Lt (Named name_s) (Named name_t)) ([])) s.NoBlock (s.Then 3 (s.Return ([]) ([]) ([])) s.NoBlock s.End)) (s.WithBlock (s.Then 4 (s.Have (Rel relation.Le (Named name_t) (Named name_s)) ([])) s.NoBlock (s.Then 5 (s.Return ([]) ([]) ([])) s.NoBlock s.End)) s.NoBlock)) s.End) ≡ Accepted
unfolding computing
conditions_457 = refl

conditions_458 : body_verdict (record { predicates = ([]); specs = ((record { is_void = true; name = name_f; params = (name_p ∷ []); vars = ((name_s, sort.Int) ∷ (name_t, sort.Int) ∷ (name_v, sort.Val) ∷ (name_w, sort.Val) ∷ (name_k, sort.List) ∷ (name_m, sort.List) ∷ []); pre = (record { opened = []; facts = ([]); locals = []; items = ((Data (Var 0 sort.Int) (Var 2 sort.Val) (Var 4 sort.List)) ∷ (Data (Var 1 sort.Int) (Var 3 sort.Val) (Var 5 sort.List)) ∷ []) }); post = (record { opened = []; facts = ([]); locals = []; items = ((Data (Var 0 sort.Int) (Var 2 sort.Val) (Var 4 sort.List)) ∷ (Data (Var 1 sort.Int) (Var 3 sort.Val) (Var 5 sort.List)) ∷ []) }) }) ∷ []) }) (record { is_void = true; name = name_f; params = (name_p ∷ []); vars = ((name_s, sort.Int) ∷ (name_t, sort.Int) ∷ (name_v, sort.Val) ∷ (name_w, sort.Val) ∷ (name_k, sort.List) ∷ (name_m, sort.List) ∷ []); pre = (record { opened = []; facts = ([]); locals = []; items = ((Data (Var 0 sort.Int) (Var 2 sort.Val) (Var 4 sort.List)) ∷ (Data (Var 1 sort.Int) (Var 3 sort.Val) (Var 5 sort.List)) ∷ []) }); post = (record { opened = []; facts = ([]); locals = []; items = ((Data (Var 0 sort.Int) (Var 2 sort.Val) (Var 4 sort.List)) ∷ (Data (Var 1 sort.Int) (Var 3 sort.Val) (Var 5 sort.List)) ∷ []) }) }) (record { temps = (name_p ∷ []); body = (c.Then (c.Return None) c.End) }) (s.Then 1 (s.Split (Rel relation.Le (Named name_s) (Named name_t)) ([]) ([])) (s.WithBlock (s.Then 2 (s.Have (Rel relation.Le (Named name_s) (Named name_t)) ([])) s.NoBlock (s.Then 3 (s.Return ([]) ([]) ([])) s.NoBlock s.End)) (s.WithBlock (s.Then 4 (s.Have (Rel relation.Lt (Named name_t) (Named name_s)) ([])) s.NoBlock (s.Then 5 (s.Return ([]) ([]) ([])) s.NoBlock s.End)) s.NoBlock)) s.End) ≡ Accepted
unfolding computing
conditions_458 = refl

conditions_459 : body_verdict (record { predicates = ([]); specs = ((record { is_void = true; name = name_f; params = (name_p ∷ []); vars = ((name_s, sort.Int) ∷ (name_t, sort.Int) ∷ (name_v, sort.Val) ∷ (name_w, sort.Val) ∷ (name_k, sort.List) ∷ (name_m, sort.List) ∷ []); pre = (record { opened = []; facts = ([]); locals = []; items = ((Data (Var 0 sort.Int) (Var 2 sort.Val) (Var 4 sort.List)) ∷ (Data (Var 1 sort.Int) (Var 3 sort.Val) (Var 5 sort.List)) ∷ []) }); post = (record { opened = []; facts = ([]); locals = []; items = ((Data (Var 0 sort.Int) (Var 2 sort.Val) (Var 4 sort.List)) ∷ (Data (Var 1 sort.Int) (Var 3 sort.Val) (Var 5 sort.List)) ∷ []) }) }) ∷ []) }) (record { is_void = true; name = name_f; params = (name_p ∷ []); vars = ((name_s, sort.Int) ∷ (name_t, sort.Int) ∷ (name_v, sort.Val) ∷ (name_w, sort.Val) ∷ (name_k, sort.List) ∷ (name_m, sort.List) ∷ []); pre = (record { opened = []; facts = ([]); locals = []; items = ((Data (Var 0 sort.Int) (Var 2 sort.Val) (Var 4 sort.List)) ∷ (Data (Var 1 sort.Int) (Var 3 sort.Val) (Var 5 sort.List)) ∷ []) }); post = (record { opened = []; facts = ([]); locals = []; items = ((Data (Var 0 sort.Int) (Var 2 sort.Val) (Var 4 sort.List)) ∷ (Data (Var 1 sort.Int) (Var 3 sort.Val) (Var 5 sort.List)) ∷ []) }) }) (record { temps = (name_p ∷ []); body = (c.Then (c.Return None) c.End) }) (s.Then 1 (s.Split (Rel relation.Lt (Named name_s) (Named name_t)) ([]) ([])) (s.WithBlock (s.Then 2 (s.Have (Rel relation.Le (Named name_s) (Named name_t)) ([])) s.NoBlock (s.Then 3 (s.Return ([]) ([]) ([])) s.NoBlock s.End)) (s.WithBlock (s.Then 4 (s.Have (Rel relation.Le (Named name_s) (Named name_t)) ([])) s.NoBlock (s.Then 5 (s.Return ([]) ([]) ([])) s.NoBlock s.End)) s.NoBlock)) s.End) ≡ (RefusedAt 2 25 3)
unfolding computing
conditions_459 = refl

conditions_460 : body_verdict (record { predicates = ([]); specs = ((record { is_void = true; name = name_f; params = (name_p ∷ []); vars = ((name_s, sort.Int) ∷ (name_t, sort.Int) ∷ (name_v, sort.Val) ∷ (name_w, sort.Val) ∷ (name_k, sort.List) ∷ (name_m, sort.List) ∷ []); pre = (record { opened = []; facts = ([]); locals = []; items = ((Data (Var 0 sort.Int) (Var 2 sort.Val) (Var 4 sort.List)) ∷ (Data (Var 1 sort.Int) (Var 3 sort.Val) (Var 5 sort.List)) ∷ []) }); post = (record { opened = []; facts = ([]); locals = []; items = ((Data (Var 0 sort.Int) (Var 2 sort.Val) (Var 4 sort.List)) ∷ (Data (Var 1 sort.Int) (Var 3 sort.Val) (Var 5 sort.List)) ∷ []) }) }) ∷ []) }) (record { is_void = true; name = name_f; params = (name_p ∷ []); vars = ((name_s, sort.Int) ∷ (name_t, sort.Int) ∷ (name_v, sort.Val) ∷ (name_w, sort.Val) ∷ (name_k, sort.List) ∷ (name_m, sort.List) ∷ []); pre = (record { opened = []; facts = ([]); locals = []; items = ((Data (Var 0 sort.Int) (Var 2 sort.Val) (Var 4 sort.List)) ∷ (Data (Var 1 sort.Int) (Var 3 sort.Val) (Var 5 sort.List)) ∷ []) }); post = (record { opened = []; facts = ([]); locals = []; items = ((Data (Var 0 sort.Int) (Var 2 sort.Val) (Var 4 sort.List)) ∷ (Data (Var 1 sort.Int) (Var 3 sort.Val) (Var 5 sort.List)) ∷ []) }) }) (record { temps = (name_p ∷ []); body = (c.Then (c.Return None) c.End) }) (s.Then 1 (s.Split (Rel relation.Eq (Named name_v) (Named name_w)) ([]) ([])) (s.WithBlock (s.Then 2 (s.Return ([]) ([]) ([])) s.NoBlock s.End) (s.WithBlock (s.Then 3 (s.Have (Rel relation.Ne (Named name_v) (Named name_w)) ([])) s.NoBlock (s.Then 4 (s.Return ([]) ([]) ([])) s.NoBlock s.End)) s.NoBlock)) s.End) ≡ Accepted
unfolding computing
conditions_460 = refl

conditions_461 : body_verdict (record { predicates = ([]); specs = ((record { is_void = true; name = name_f; params = (name_p ∷ []); vars = ((name_s, sort.Int) ∷ (name_t, sort.Int) ∷ (name_v, sort.Val) ∷ (name_w, sort.Val) ∷ (name_k, sort.List) ∷ (name_m, sort.List) ∷ []); pre = (record { opened = []; facts = ([]); locals = []; items = ((Data (Var 0 sort.Int) (Var 2 sort.Val) (Var 4 sort.List)) ∷ (Data (Var 1 sort.Int) (Var 3 sort.Val) (Var 5 sort.List)) ∷ []) }); post = (record { opened = []; facts = ([]); locals = []; items = ((Data (Var 0 sort.Int) (Var 2 sort.Val) (Var 4 sort.List)) ∷ (Data (Var 1 sort.Int) (Var 3 sort.Val) (Var 5 sort.List)) ∷ []) }) }) ∷ []) }) (record { is_void = true; name = name_f; params = (name_p ∷ []); vars = ((name_s, sort.Int) ∷ (name_t, sort.Int) ∷ (name_v, sort.Val) ∷ (name_w, sort.Val) ∷ (name_k, sort.List) ∷ (name_m, sort.List) ∷ []); pre = (record { opened = []; facts = ([]); locals = []; items = ((Data (Var 0 sort.Int) (Var 2 sort.Val) (Var 4 sort.List)) ∷ (Data (Var 1 sort.Int) (Var 3 sort.Val) (Var 5 sort.List)) ∷ []) }); post = (record { opened = []; facts = ([]); locals = []; items = ((Data (Var 0 sort.Int) (Var 2 sort.Val) (Var 4 sort.List)) ∷ (Data (Var 1 sort.Int) (Var 3 sort.Val) (Var 5 sort.List)) ∷ []) }) }) (record { temps = (name_p ∷ []); body = (c.Then (c.Return None) c.End) }) (s.Then 1 (s.Have (Rel relation.Eq (Named name_v) (Number (pos 1))) ([])) s.NoBlock (s.Then 2 (s.Return ([]) ([]) ([])) s.NoBlock s.End)) ≡ (RefusedAt 1 25 1)
unfolding computing
conditions_461 = refl

conditions_462 : body_verdict (record { predicates = ([]); specs = ((record { is_void = true; name = name_f; params = (name_p ∷ []); vars = ((name_s, sort.Int) ∷ (name_t, sort.Int) ∷ (name_v, sort.Val) ∷ (name_w, sort.Val) ∷ (name_k, sort.List) ∷ (name_m, sort.List) ∷ []); pre = (record { opened = []; facts = ([]); locals = []; items = ((Data (Var 0 sort.Int) (Var 2 sort.Val) (Var 4 sort.List)) ∷ (Data (Var 1 sort.Int) (Var 3 sort.Val) (Var 5 sort.List)) ∷ []) }); post = (record { opened = []; facts = ([]); locals = []; items = ((Data (Var 0 sort.Int) (Var 2 sort.Val) (Var 4 sort.List)) ∷ (Data (Var 1 sort.Int) (Var 3 sort.Val) (Var 5 sort.List)) ∷ []) }) }) ∷ []) }) (record { is_void = true; name = name_f; params = (name_p ∷ []); vars = ((name_s, sort.Int) ∷ (name_t, sort.Int) ∷ (name_v, sort.Val) ∷ (name_w, sort.Val) ∷ (name_k, sort.List) ∷ (name_m, sort.List) ∷ []); pre = (record { opened = []; facts = ([]); locals = []; items = ((Data (Var 0 sort.Int) (Var 2 sort.Val) (Var 4 sort.List)) ∷ (Data (Var 1 sort.Int) (Var 3 sort.Val) (Var 5 sort.List)) ∷ []) }); post = (record { opened = []; facts = ([]); locals = []; items = ((Data (Var 0 sort.Int) (Var 2 sort.Val) (Var 4 sort.List)) ∷ (Data (Var 1 sort.Int) (Var 3 sort.Val) (Var 5 sort.List)) ∷ []) }) }) (record { temps = (name_p ∷ []); body = (c.Then (c.Return None) c.End) }) (s.Then 1 (s.Have (Rel relation.Eq (Named name_s) (Named name_v)) ([])) s.NoBlock (s.Then 2 (s.Return ([]) ([]) ([])) s.NoBlock s.End)) ≡ (RefusedAt 1 25 1)
unfolding computing
conditions_462 = refl

conditions_463 : body_verdict (record { predicates = ([]); specs = ((record { is_void = true; name = name_f; params = (name_p ∷ []); vars = ((name_s, sort.Int) ∷ (name_t, sort.Int) ∷ (name_v, sort.Val) ∷ (name_w, sort.Val) ∷ (name_k, sort.List) ∷ (name_m, sort.List) ∷ []); pre = (record { opened = []; facts = ([]); locals = []; items = ((Data (Var 0 sort.Int) (Var 2 sort.Val) (Var 4 sort.List)) ∷ (Data (Var 1 sort.Int) (Var 3 sort.Val) (Var 5 sort.List)) ∷ []) }); post = (record { opened = []; facts = ([]); locals = []; items = ((Data (Var 0 sort.Int) (Var 2 sort.Val) (Var 4 sort.List)) ∷ (Data (Var 1 sort.Int) (Var 3 sort.Val) (Var 5 sort.List)) ∷ []) }) }) ∷ []) }) (record { is_void = true; name = name_f; params = (name_p ∷ []); vars = ((name_s, sort.Int) ∷ (name_t, sort.Int) ∷ (name_v, sort.Val) ∷ (name_w, sort.Val) ∷ (name_k, sort.List) ∷ (name_m, sort.List) ∷ []); pre = (record { opened = []; facts = ([]); locals = []; items = ((Data (Var 0 sort.Int) (Var 2 sort.Val) (Var 4 sort.List)) ∷ (Data (Var 1 sort.Int) (Var 3 sort.Val) (Var 5 sort.List)) ∷ []) }); post = (record { opened = []; facts = ([]); locals = []; items = ((Data (Var 0 sort.Int) (Var 2 sort.Val) (Var 4 sort.List)) ∷ (Data (Var 1 sort.Int) (Var 3 sort.Val) (Var 5 sort.List)) ∷ []) }) }) (record { temps = (name_p ∷ []); body = (c.Then (c.Return None) c.End) }) (s.Then 1 (s.Have (IsInt (Named name_s)) ([])) s.NoBlock (s.Then 2 (s.Return ([]) ([]) ([])) s.NoBlock s.End)) ≡ (RefusedAt 1 25 1)
unfolding computing
conditions_463 = refl

conditions_464 : body_verdict (record { predicates = ([]); specs = ((record { is_void = true; name = name_f; params = (name_p ∷ []); vars = ((name_s, sort.Int) ∷ (name_t, sort.Int) ∷ (name_v, sort.Val) ∷ (name_w, sort.Val) ∷ (name_k, sort.List) ∷ (name_m, sort.List) ∷ []); pre = (record { opened = []; facts = ([]); locals = []; items = ((Data (Var 0 sort.Int) (Var 2 sort.Val) (Var 4 sort.List)) ∷ (Data (Var 1 sort.Int) (Var 3 sort.Val) (Var 5 sort.List)) ∷ []) }); post = (record { opened = []; facts = ([]); locals = []; items = ((Data (Var 0 sort.Int) (Var 2 sort.Val) (Var 4 sort.List)) ∷ (Data (Var 1 sort.Int) (Var 3 sort.Val) (Var 5 sort.List)) ∷ []) }) }) ∷ []) }) (record { is_void = true; name = name_f; params = (name_p ∷ []); vars = ((name_s, sort.Int) ∷ (name_t, sort.Int) ∷ (name_v, sort.Val) ∷ (name_w, sort.Val) ∷ (name_k, sort.List) ∷ (name_m, sort.List) ∷ []); pre = (record { opened = []; facts = ([]); locals = []; items = ((Data (Var 0 sort.Int) (Var 2 sort.Val) (Var 4 sort.List)) ∷ (Data (Var 1 sort.Int) (Var 3 sort.Val) (Var 5 sort.List)) ∷ []) }); post = (record { opened = []; facts = ([]); locals = []; items = ((Data (Var 0 sort.Int) (Var 2 sort.Val) (Var 4 sort.List)) ∷ (Data (Var 1 sort.Int) (Var 3 sort.Val) (Var 5 sort.List)) ∷ []) }) }) (record { temps = (name_p ∷ []); body = (c.Then (c.Return None) c.End) }) (s.Then 1 (s.Have (IsInt (Of unary.Vi (Named name_s))) ([])) s.NoBlock (s.Then 2 (s.Return ([]) ([]) ([])) s.NoBlock s.End)) ≡ Accepted
unfolding computing
conditions_464 = refl

conditions_465 : body_verdict (record { predicates = ([]); specs = ((record { is_void = true; name = name_f; params = (name_p ∷ []); vars = ((name_s, sort.Int) ∷ (name_t, sort.Int) ∷ (name_v, sort.Val) ∷ (name_w, sort.Val) ∷ (name_k, sort.List) ∷ (name_m, sort.List) ∷ []); pre = (record { opened = []; facts = ([]); locals = []; items = ((Data (Var 0 sort.Int) (Var 2 sort.Val) (Var 4 sort.List)) ∷ (Data (Var 1 sort.Int) (Var 3 sort.Val) (Var 5 sort.List)) ∷ []) }); post = (record { opened = []; facts = ([]); locals = []; items = ((Data (Var 0 sort.Int) (Var 2 sort.Val) (Var 4 sort.List)) ∷ (Data (Var 1 sort.Int) (Var 3 sort.Val) (Var 5 sort.List)) ∷ []) }) }) ∷ []) }) (record { is_void = true; name = name_f; params = (name_p ∷ []); vars = ((name_s, sort.Int) ∷ (name_t, sort.Int) ∷ (name_v, sort.Val) ∷ (name_w, sort.Val) ∷ (name_k, sort.List) ∷ (name_m, sort.List) ∷ []); pre = (record { opened = []; facts = ([]); locals = []; items = ((Data (Var 0 sort.Int) (Var 2 sort.Val) (Var 4 sort.List)) ∷ (Data (Var 1 sort.Int) (Var 3 sort.Val) (Var 5 sort.List)) ∷ []) }); post = (record { opened = []; facts = ([]); locals = []; items = ((Data (Var 0 sort.Int) (Var 2 sort.Val) (Var 4 sort.List)) ∷ (Data (Var 1 sort.Int) (Var 3 sort.Val) (Var 5 sort.List)) ∷ []) }) }) (record { temps = (name_p ∷ []); body = (c.Then (c.Return None) c.End) }) (s.Then 1 (s.Have (IsPtr (Named name_s)) ([])) s.NoBlock (s.Then 2 (s.Return ([]) ([]) ([])) s.NoBlock s.End)) ≡ (RefusedAt 1 25 1)
unfolding computing
conditions_465 = refl

conditions_466 : body_verdict (record { predicates = ([]); specs = ((record { is_void = true; name = name_f; params = (name_p ∷ []); vars = ((name_s, sort.Int) ∷ (name_t, sort.Int) ∷ (name_v, sort.Val) ∷ (name_w, sort.Val) ∷ (name_k, sort.List) ∷ (name_m, sort.List) ∷ []); pre = (record { opened = []; facts = ([]); locals = []; items = ((Data (Var 0 sort.Int) (Var 2 sort.Val) (Var 4 sort.List)) ∷ (Data (Var 1 sort.Int) (Var 3 sort.Val) (Var 5 sort.List)) ∷ []) }); post = (record { opened = []; facts = ([]); locals = []; items = ((Data (Var 0 sort.Int) (Var 2 sort.Val) (Var 4 sort.List)) ∷ (Data (Var 1 sort.Int) (Var 3 sort.Val) (Var 5 sort.List)) ∷ []) }) }) ∷ []) }) (record { is_void = true; name = name_f; params = (name_p ∷ []); vars = ((name_s, sort.Int) ∷ (name_t, sort.Int) ∷ (name_v, sort.Val) ∷ (name_w, sort.Val) ∷ (name_k, sort.List) ∷ (name_m, sort.List) ∷ []); pre = (record { opened = []; facts = ([]); locals = []; items = ((Data (Var 0 sort.Int) (Var 2 sort.Val) (Var 4 sort.List)) ∷ (Data (Var 1 sort.Int) (Var 3 sort.Val) (Var 5 sort.List)) ∷ []) }); post = (record { opened = []; facts = ([]); locals = []; items = ((Data (Var 0 sort.Int) (Var 2 sort.Val) (Var 4 sort.List)) ∷ (Data (Var 1 sort.Int) (Var 3 sort.Val) (Var 5 sort.List)) ∷ []) }) }) (record { temps = (name_p ∷ []); body = (c.Then (c.Return None) c.End) }) (s.Then 1 (s.Have (Rel relation.Eq (Named name_z) (Named name_s)) ([])) s.NoBlock (s.Then 2 (s.Return ([]) ([]) ([])) s.NoBlock s.End)) ≡ (RefusedAt 1 25 1)
unfolding computing
conditions_466 = refl

conditions_467 : body_verdict (record { predicates = ([]); specs = ((record { is_void = true; name = name_f; params = (name_p ∷ []); vars = ((name_s, sort.Int) ∷ (name_t, sort.Int) ∷ (name_v, sort.Val) ∷ (name_w, sort.Val) ∷ (name_k, sort.List) ∷ (name_m, sort.List) ∷ []); pre = (record { opened = []; facts = ([]); locals = []; items = ((Data (Var 0 sort.Int) (Var 2 sort.Val) (Var 4 sort.List)) ∷ (Data (Var 1 sort.Int) (Var 3 sort.Val) (Var 5 sort.List)) ∷ []) }); post = (record { opened = []; facts = ([]); locals = []; items = ((Data (Var 0 sort.Int) (Var 2 sort.Val) (Var 4 sort.List)) ∷ (Data (Var 1 sort.Int) (Var 3 sort.Val) (Var 5 sort.List)) ∷ []) }) }) ∷ []) }) (record { is_void = true; name = name_f; params = (name_p ∷ []); vars = ((name_s, sort.Int) ∷ (name_t, sort.Int) ∷ (name_v, sort.Val) ∷ (name_w, sort.Val) ∷ (name_k, sort.List) ∷ (name_m, sort.List) ∷ []); pre = (record { opened = []; facts = ([]); locals = []; items = ((Data (Var 0 sort.Int) (Var 2 sort.Val) (Var 4 sort.List)) ∷ (Data (Var 1 sort.Int) (Var 3 sort.Val) (Var 5 sort.List)) ∷ []) }); post = (record { opened = []; facts = ([]); locals = []; items = ((Data (Var 0 sort.Int) (Var 2 sort.Val) (Var 4 sort.List)) ∷ (Data (Var 1 sort.Int) (Var 3 sort.Val) (Var 5 sort.List)) ∷ []) }) }) (record { temps = (name_p ∷ []); body = (c.Then (c.Return None) c.End) }) (s.Then 1 (s.Have (Each (Named name_k) (Named name_s) (Named name_t)) ([])) s.NoBlock (s.Then 2 (s.Return ([]) ([]) ([])) s.NoBlock s.End)) ≡ (RefusedAt 1 25 3)
unfolding computing
conditions_467 = refl

conditions_468 : body_verdict (record { predicates = ([]); specs = ((record { is_void = true; name = name_f; params = (name_p ∷ []); vars = ((name_s, sort.Int) ∷ (name_t, sort.Int) ∷ (name_v, sort.Val) ∷ (name_w, sort.Val) ∷ (name_k, sort.List) ∷ (name_m, sort.List) ∷ []); pre = (record { opened = []; facts = ([]); locals = []; items = ((Data (Var 0 sort.Int) (Var 2 sort.Val) (Var 4 sort.List)) ∷ (Data (Var 1 sort.Int) (Var 3 sort.Val) (Var 5 sort.List)) ∷ []) }); post = (record { opened = []; facts = ([]); locals = []; items = ((Data (Var 0 sort.Int) (Var 2 sort.Val) (Var 4 sort.List)) ∷ (Data (Var 1 sort.Int) (Var 3 sort.Val) (Var 5 sort.List)) ∷ []) }) }) ∷ []) }) (record { is_void = true; name = name_f; params = (name_p ∷ []); vars = ((name_s, sort.Int) ∷ (name_t, sort.Int) ∷ (name_v, sort.Val) ∷ (name_w, sort.Val) ∷ (name_k, sort.List) ∷ (name_m, sort.List) ∷ []); pre = (record { opened = []; facts = ([]); locals = []; items = ((Data (Var 0 sort.Int) (Var 2 sort.Val) (Var 4 sort.List)) ∷ (Data (Var 1 sort.Int) (Var 3 sort.Val) (Var 5 sort.List)) ∷ []) }); post = (record { opened = []; facts = ([]); locals = []; items = ((Data (Var 0 sort.Int) (Var 2 sort.Val) (Var 4 sort.List)) ∷ (Data (Var 1 sort.Int) (Var 3 sort.Val) (Var 5 sort.List)) ∷ []) }) }) (record { temps = (name_p ∷ []); body = (c.Then (c.Return None) c.End) }) (s.Then 1 (s.Have (Each (Named name_v) (Named name_s) (Named name_t)) ([])) s.NoBlock (s.Then 2 (s.Return ([]) ([]) ([])) s.NoBlock s.End)) ≡ (RefusedAt 1 25 1)
unfolding computing
conditions_468 = refl

conditions_469 : body_verdict (record { predicates = ([]); specs = ((record { is_void = true; name = name_f; params = (name_p ∷ []); vars = ((name_s, sort.Int) ∷ (name_t, sort.Int) ∷ (name_v, sort.Val) ∷ (name_w, sort.Val) ∷ (name_k, sort.List) ∷ (name_m, sort.List) ∷ []); pre = (record { opened = []; facts = ([]); locals = []; items = ((Data (Var 0 sort.Int) (Var 2 sort.Val) (Var 4 sort.List)) ∷ (Data (Var 1 sort.Int) (Var 3 sort.Val) (Var 5 sort.List)) ∷ []) }); post = (record { opened = []; facts = ([]); locals = []; items = ((Data (Var 0 sort.Int) (Var 2 sort.Val) (Var 4 sort.List)) ∷ (Data (Var 1 sort.Int) (Var 3 sort.Val) (Var 5 sort.List)) ∷ []) }) }) ∷ []) }) (record { is_void = true; name = name_f; params = (name_p ∷ []); vars = ((name_s, sort.Int) ∷ (name_t, sort.Int) ∷ (name_v, sort.Val) ∷ (name_w, sort.Val) ∷ (name_k, sort.List) ∷ (name_m, sort.List) ∷ []); pre = (record { opened = []; facts = ([]); locals = []; items = ((Data (Var 0 sort.Int) (Var 2 sort.Val) (Var 4 sort.List)) ∷ (Data (Var 1 sort.Int) (Var 3 sort.Val) (Var 5 sort.List)) ∷ []) }); post = (record { opened = []; facts = ([]); locals = []; items = ((Data (Var 0 sort.Int) (Var 2 sort.Val) (Var 4 sort.List)) ∷ (Data (Var 1 sort.Int) (Var 3 sort.Val) (Var 5 sort.List)) ∷ []) }) }) (record { temps = (name_p ∷ []); body = (c.Then (c.Return None) c.End) }) (s.Then 1 (s.Have (Rel relation.Eq (Of2 binary.Add (Named name_s) (Number (pos 1))) (Of2 binary.Add (Number (pos 1)) (Named name_s))) ([])) s.NoBlock (s.Then 2 (s.Return ([]) ([]) ([])) s.NoBlock s.End)) ≡ Accepted
unfolding computing
conditions_469 = refl

conditions_470 : body_verdict (record { predicates = ([]); specs = ((record { is_void = true; name = name_f; params = (name_p ∷ []); vars = ((name_s, sort.Int) ∷ (name_t, sort.Int) ∷ (name_v, sort.Val) ∷ (name_w, sort.Val) ∷ (name_k, sort.List) ∷ (name_m, sort.List) ∷ []); pre = (record { opened = []; facts = ([]); locals = []; items = ((Data (Var 0 sort.Int) (Var 2 sort.Val) (Var 4 sort.List)) ∷ (Data (Var 1 sort.Int) (Var 3 sort.Val) (Var 5 sort.List)) ∷ []) }); post = (record { opened = []; facts = ([]); locals = []; items = ((Data (Var 0 sort.Int) (Var 2 sort.Val) (Var 4 sort.List)) ∷ (Data (Var 1 sort.Int) (Var 3 sort.Val) (Var 5 sort.List)) ∷ []) }) }) ∷ []) }) (record { is_void = true; name = name_f; params = (name_p ∷ []); vars = ((name_s, sort.Int) ∷ (name_t, sort.Int) ∷ (name_v, sort.Val) ∷ (name_w, sort.Val) ∷ (name_k, sort.List) ∷ (name_m, sort.List) ∷ []); pre = (record { opened = []; facts = ([]); locals = []; items = ((Data (Var 0 sort.Int) (Var 2 sort.Val) (Var 4 sort.List)) ∷ (Data (Var 1 sort.Int) (Var 3 sort.Val) (Var 5 sort.List)) ∷ []) }); post = (record { opened = []; facts = ([]); locals = []; items = ((Data (Var 0 sort.Int) (Var 2 sort.Val) (Var 4 sort.List)) ∷ (Data (Var 1 sort.Int) (Var 3 sort.Val) (Var 5 sort.List)) ∷ []) }) }) (record { temps = (name_p ∷ []); body = (c.Then (c.Return None) c.End) }) (s.Then 1 (s.Have (Rel relation.Eq (Of unary.Len (Of2 binary.Cons (Named name_v) (Named name_k))) (Of2 binary.Add (Number (pos 1)) (Of unary.Len (Named name_k)))) ([])) s.NoBlock (s.Then 2 (s.Return ([]) ([]) ([])) s.NoBlock s.End)) ≡ Accepted
unfolding computing
conditions_470 = refl

conditions_471 : body_verdict (record { predicates = ([]); specs = ((record { is_void = true; name = name_f; params = (name_p ∷ []); vars = ((name_s, sort.Int) ∷ (name_t, sort.Int) ∷ (name_v, sort.Val) ∷ (name_w, sort.Val) ∷ (name_k, sort.List) ∷ (name_m, sort.List) ∷ []); pre = (record { opened = []; facts = ([]); locals = []; items = ((Data (Var 0 sort.Int) (Var 2 sort.Val) (Var 4 sort.List)) ∷ (Data (Var 1 sort.Int) (Var 3 sort.Val) (Var 5 sort.List)) ∷ []) }); post = (record { opened = []; facts = ([]); locals = []; items = ((Data (Var 0 sort.Int) (Var 2 sort.Val) (Var 4 sort.List)) ∷ (Data (Var 1 sort.Int) (Var 3 sort.Val) (Var 5 sort.List)) ∷ []) }) }) ∷ []) }) (record { is_void = true; name = name_f; params = (name_p ∷ []); vars = ((name_s, sort.Int) ∷ (name_t, sort.Int) ∷ (name_v, sort.Val) ∷ (name_w, sort.Val) ∷ (name_k, sort.List) ∷ (name_m, sort.List) ∷ []); pre = (record { opened = []; facts = ([]); locals = []; items = ((Data (Var 0 sort.Int) (Var 2 sort.Val) (Var 4 sort.List)) ∷ (Data (Var 1 sort.Int) (Var 3 sort.Val) (Var 5 sort.List)) ∷ []) }); post = (record { opened = []; facts = ([]); locals = []; items = ((Data (Var 0 sort.Int) (Var 2 sort.Val) (Var 4 sort.List)) ∷ (Data (Var 1 sort.Int) (Var 3 sort.Val) (Var 5 sort.List)) ∷ []) }) }) (record { temps = (name_p ∷ []); body = (c.Then (c.Return None) c.End) }) (s.Then 1 (s.Naming name_x (Named name_z)) s.NoBlock (s.Then 2 (s.Return ([]) ([]) ([])) s.NoBlock s.End)) ≡ (RefusedAt 1 38 1)
unfolding computing
conditions_471 = refl

conditions_472 : body_verdict (record { predicates = ([]); specs = ((record { is_void = true; name = name_f; params = (name_p ∷ []); vars = ((name_s, sort.Int) ∷ (name_t, sort.Int) ∷ (name_v, sort.Val) ∷ (name_w, sort.Val) ∷ (name_k, sort.List) ∷ (name_m, sort.List) ∷ []); pre = (record { opened = []; facts = ([]); locals = []; items = ((Data (Var 0 sort.Int) (Var 2 sort.Val) (Var 4 sort.List)) ∷ (Data (Var 1 sort.Int) (Var 3 sort.Val) (Var 5 sort.List)) ∷ []) }); post = (record { opened = []; facts = ([]); locals = []; items = ((Data (Var 0 sort.Int) (Var 2 sort.Val) (Var 4 sort.List)) ∷ (Data (Var 1 sort.Int) (Var 3 sort.Val) (Var 5 sort.List)) ∷ []) }) }) ∷ []) }) (record { is_void = true; name = name_f; params = (name_p ∷ []); vars = ((name_s, sort.Int) ∷ (name_t, sort.Int) ∷ (name_v, sort.Val) ∷ (name_w, sort.Val) ∷ (name_k, sort.List) ∷ (name_m, sort.List) ∷ []); pre = (record { opened = []; facts = ([]); locals = []; items = ((Data (Var 0 sort.Int) (Var 2 sort.Val) (Var 4 sort.List)) ∷ (Data (Var 1 sort.Int) (Var 3 sort.Val) (Var 5 sort.List)) ∷ []) }); post = (record { opened = []; facts = ([]); locals = []; items = ((Data (Var 0 sort.Int) (Var 2 sort.Val) (Var 4 sort.List)) ∷ (Data (Var 1 sort.Int) (Var 3 sort.Val) (Var 5 sort.List)) ∷ []) }) }) (record { temps = (name_p ∷ []); body = (c.Then (c.Return None) c.End) }) (s.Then 1 (s.Naming name_x (Of2 binary.Add (Named name_s) (Named name_v))) s.NoBlock (s.Then 2 (s.Return ([]) ([]) ([])) s.NoBlock s.End)) ≡ (RefusedAt 1 38 1)
unfolding computing
conditions_472 = refl

conditions_473 : body_verdict (record { predicates = ([]); specs = ((record { is_void = true; name = name_f; params = (name_p ∷ []); vars = ((name_s, sort.Int) ∷ (name_t, sort.Int) ∷ (name_v, sort.Val) ∷ (name_w, sort.Val) ∷ (name_k, sort.List) ∷ (name_m, sort.List) ∷ []); pre = (record { opened = []; facts = ([]); locals = []; items = ((Data (Var 0 sort.Int) (Var 2 sort.Val) (Var 4 sort.List)) ∷ (Data (Var 1 sort.Int) (Var 3 sort.Val) (Var 5 sort.List)) ∷ []) }); post = (record { opened = []; facts = ([]); locals = []; items = ((Data (Var 0 sort.Int) (Var 2 sort.Val) (Var 4 sort.List)) ∷ (Data (Var 1 sort.Int) (Var 3 sort.Val) (Var 5 sort.List)) ∷ []) }) }) ∷ []) }) (record { is_void = true; name = name_f; params = (name_p ∷ []); vars = ((name_s, sort.Int) ∷ (name_t, sort.Int) ∷ (name_v, sort.Val) ∷ (name_w, sort.Val) ∷ (name_k, sort.List) ∷ (name_m, sort.List) ∷ []); pre = (record { opened = []; facts = ([]); locals = []; items = ((Data (Var 0 sort.Int) (Var 2 sort.Val) (Var 4 sort.List)) ∷ (Data (Var 1 sort.Int) (Var 3 sort.Val) (Var 5 sort.List)) ∷ []) }); post = (record { opened = []; facts = ([]); locals = []; items = ((Data (Var 0 sort.Int) (Var 2 sort.Val) (Var 4 sort.List)) ∷ (Data (Var 1 sort.Int) (Var 3 sort.Val) (Var 5 sort.List)) ∷ []) }) }) (record { temps = (name_p ∷ []); body = (c.Then (c.Return None) c.End) }) (s.Then 1 (s.Naming name_s (Named name_t)) s.NoBlock (s.Then 2 (s.Return ([]) ([]) ([])) s.NoBlock s.End)) ≡ (RefusedAt 1 38 6)
unfolding computing
conditions_473 = refl

conditions_474 : body_verdict (record { predicates = ([]); specs = ((record { is_void = true; name = name_f; params = (name_p ∷ []); vars = ((name_s, sort.Int) ∷ (name_t, sort.Int) ∷ (name_v, sort.Val) ∷ (name_w, sort.Val) ∷ (name_k, sort.List) ∷ (name_m, sort.List) ∷ []); pre = (record { opened = []; facts = ([]); locals = []; items = ((Data (Var 0 sort.Int) (Var 2 sort.Val) (Var 4 sort.List)) ∷ (Data (Var 1 sort.Int) (Var 3 sort.Val) (Var 5 sort.List)) ∷ []) }); post = (record { opened = []; facts = ([]); locals = []; items = ((Data (Var 0 sort.Int) (Var 2 sort.Val) (Var 4 sort.List)) ∷ (Data (Var 1 sort.Int) (Var 3 sort.Val) (Var 5 sort.List)) ∷ []) }) }) ∷ []) }) (record { is_void = true; name = name_f; params = (name_p ∷ []); vars = ((name_s, sort.Int) ∷ (name_t, sort.Int) ∷ (name_v, sort.Val) ∷ (name_w, sort.Val) ∷ (name_k, sort.List) ∷ (name_m, sort.List) ∷ []); pre = (record { opened = []; facts = ([]); locals = []; items = ((Data (Var 0 sort.Int) (Var 2 sort.Val) (Var 4 sort.List)) ∷ (Data (Var 1 sort.Int) (Var 3 sort.Val) (Var 5 sort.List)) ∷ []) }); post = (record { opened = []; facts = ([]); locals = []; items = ((Data (Var 0 sort.Int) (Var 2 sort.Val) (Var 4 sort.List)) ∷ (Data (Var 1 sort.Int) (Var 3 sort.Val) (Var 5 sort.List)) ∷ []) }) }) (record { temps = (name_p ∷ []); body = (c.Then (c.Return None) c.End) }) (s.Then 1 (s.Naming name_x (Named name_s)) s.NoBlock (s.Then 2 (s.Return ([]) ([]) ([])) s.NoBlock s.End)) ≡ Accepted
unfolding computing
conditions_474 = refl

conditions_475 : body_verdict (record { predicates = ([]); specs = ((record { is_void = true; name = name_f; params = (name_p ∷ []); vars = ((name_s, sort.Int) ∷ (name_t, sort.Int) ∷ (name_v, sort.Val) ∷ (name_w, sort.Val) ∷ (name_k, sort.List) ∷ (name_m, sort.List) ∷ []); pre = (record { opened = []; facts = ([]); locals = []; items = ((Data (Var 0 sort.Int) (Var 2 sort.Val) (Var 4 sort.List)) ∷ (Data (Var 1 sort.Int) (Var 3 sort.Val) (Var 5 sort.List)) ∷ []) }); post = (record { opened = []; facts = ([]); locals = []; items = ((Data (Var 0 sort.Int) (Var 2 sort.Val) (Var 4 sort.List)) ∷ (Data (Var 1 sort.Int) (Var 3 sort.Val) (Var 5 sort.List)) ∷ []) }) }) ∷ []) }) (record { is_void = true; name = name_f; params = (name_p ∷ []); vars = ((name_s, sort.Int) ∷ (name_t, sort.Int) ∷ (name_v, sort.Val) ∷ (name_w, sort.Val) ∷ (name_k, sort.List) ∷ (name_m, sort.List) ∷ []); pre = (record { opened = []; facts = ([]); locals = []; items = ((Data (Var 0 sort.Int) (Var 2 sort.Val) (Var 4 sort.List)) ∷ (Data (Var 1 sort.Int) (Var 3 sort.Val) (Var 5 sort.List)) ∷ []) }); post = (record { opened = []; facts = ([]); locals = []; items = ((Data (Var 0 sort.Int) (Var 2 sort.Val) (Var 4 sort.List)) ∷ (Data (Var 1 sort.Int) (Var 3 sort.Val) (Var 5 sort.List)) ∷ []) }) }) (record { temps = (name_p ∷ []); body = (c.Then (c.Return None) c.End) }) (s.Then 1 (s.Naming name_x (Named name_s)) s.NoBlock (s.Then 2 (s.Have (Rel relation.Eq (Named name_x) (Named name_s)) ([])) s.NoBlock (s.Then 3 (s.Return ([]) ([]) ([])) s.NoBlock s.End))) ≡ Accepted
unfolding computing
conditions_475 = refl

conditions_476 : body_verdict (record { predicates = ([]); specs = ((record { is_void = true; name = name_f; params = (name_p ∷ []); vars = ((name_s, sort.Int) ∷ (name_t, sort.Int) ∷ (name_v, sort.Val) ∷ (name_w, sort.Val) ∷ (name_k, sort.List) ∷ (name_m, sort.List) ∷ []); pre = (record { opened = []; facts = ([]); locals = []; items = ((Data (Var 0 sort.Int) (Var 2 sort.Val) (Var 4 sort.List)) ∷ (Data (Var 1 sort.Int) (Var 3 sort.Val) (Var 5 sort.List)) ∷ []) }); post = (record { opened = []; facts = ([]); locals = []; items = ((Data (Var 0 sort.Int) (Var 2 sort.Val) (Var 4 sort.List)) ∷ (Data (Var 1 sort.Int) (Var 3 sort.Val) (Var 5 sort.List)) ∷ []) }) }) ∷ []) }) (record { is_void = true; name = name_f; params = (name_p ∷ []); vars = ((name_s, sort.Int) ∷ (name_t, sort.Int) ∷ (name_v, sort.Val) ∷ (name_w, sort.Val) ∷ (name_k, sort.List) ∷ (name_m, sort.List) ∷ []); pre = (record { opened = []; facts = ([]); locals = []; items = ((Data (Var 0 sort.Int) (Var 2 sort.Val) (Var 4 sort.List)) ∷ (Data (Var 1 sort.Int) (Var 3 sort.Val) (Var 5 sort.List)) ∷ []) }); post = (record { opened = []; facts = ([]); locals = []; items = ((Data (Var 0 sort.Int) (Var 2 sort.Val) (Var 4 sort.List)) ∷ (Data (Var 1 sort.Int) (Var 3 sort.Val) (Var 5 sort.List)) ∷ []) }) }) (record { temps = (name_p ∷ []); body = (c.Then (c.Return None) c.End) }) (s.Then 1 (s.Naming name_x (Named name_s)) s.NoBlock (s.Then 2 (s.Have (Rel relation.Eq (Named name_s) (Named name_x)) ([])) s.NoBlock (s.Then 3 (s.Return ([]) ([]) ([])) s.NoBlock s.End))) ≡ Accepted
unfolding computing
conditions_476 = refl

conditions_477 : body_verdict (record { predicates = ([]); specs = ((record { is_void = true; name = name_f; params = (name_p ∷ []); vars = ((name_s, sort.Int) ∷ (name_t, sort.Int) ∷ (name_v, sort.Val) ∷ (name_w, sort.Val) ∷ (name_k, sort.List) ∷ (name_m, sort.List) ∷ []); pre = (record { opened = []; facts = ([]); locals = []; items = ((Data (Var 0 sort.Int) (Var 2 sort.Val) (Var 4 sort.List)) ∷ (Data (Var 1 sort.Int) (Var 3 sort.Val) (Var 5 sort.List)) ∷ []) }); post = (record { opened = []; facts = ([]); locals = []; items = ((Data (Var 0 sort.Int) (Var 2 sort.Val) (Var 4 sort.List)) ∷ (Data (Var 1 sort.Int) (Var 3 sort.Val) (Var 5 sort.List)) ∷ []) }) }) ∷ []) }) (record { is_void = true; name = name_f; params = (name_p ∷ []); vars = ((name_s, sort.Int) ∷ (name_t, sort.Int) ∷ (name_v, sort.Val) ∷ (name_w, sort.Val) ∷ (name_k, sort.List) ∷ (name_m, sort.List) ∷ []); pre = (record { opened = []; facts = ([]); locals = []; items = ((Data (Var 0 sort.Int) (Var 2 sort.Val) (Var 4 sort.List)) ∷ (Data (Var 1 sort.Int) (Var 3 sort.Val) (Var 5 sort.List)) ∷ []) }); post = (record { opened = []; facts = ([]); locals = []; items = ((Data (Var 0 sort.Int) (Var 2 sort.Val) (Var 4 sort.List)) ∷ (Data (Var 1 sort.Int) (Var 3 sort.Val) (Var 5 sort.List)) ∷ []) }) }) (record { temps = (name_p ∷ []); body = (c.Then (c.Return None) c.End) }) (s.Then 1 (s.Naming name_x (Named name_s)) s.NoBlock (s.Then 2 (s.Naming name_x (Named name_t)) s.NoBlock (s.Then 3 (s.Return ([]) ([]) ([])) s.NoBlock s.End))) ≡ (RefusedAt 2 38 6)
unfolding computing
conditions_477 = refl

conditions_478 : body_verdict (record { predicates = ([]); specs = ((record { is_void = true; name = name_f; params = (name_p ∷ []); vars = ((name_s, sort.Int) ∷ (name_t, sort.Int) ∷ (name_v, sort.Val) ∷ (name_w, sort.Val) ∷ (name_k, sort.List) ∷ (name_m, sort.List) ∷ []); pre = (record { opened = []; facts = ([]); locals = []; items = ((Data (Var 0 sort.Int) (Var 2 sort.Val) (Var 4 sort.List)) ∷ (Data (Var 1 sort.Int) (Var 3 sort.Val) (Var 5 sort.List)) ∷ []) }); post = (record { opened = []; facts = ([]); locals = []; items = ((Data (Var 0 sort.Int) (Var 2 sort.Val) (Var 4 sort.List)) ∷ (Data (Var 1 sort.Int) (Var 3 sort.Val) (Var 5 sort.List)) ∷ []) }) }) ∷ []) }) (record { is_void = true; name = name_f; params = (name_p ∷ []); vars = ((name_s, sort.Int) ∷ (name_t, sort.Int) ∷ (name_v, sort.Val) ∷ (name_w, sort.Val) ∷ (name_k, sort.List) ∷ (name_m, sort.List) ∷ []); pre = (record { opened = []; facts = ([]); locals = []; items = ((Data (Var 0 sort.Int) (Var 2 sort.Val) (Var 4 sort.List)) ∷ (Data (Var 1 sort.Int) (Var 3 sort.Val) (Var 5 sort.List)) ∷ []) }); post = (record { opened = []; facts = ([]); locals = []; items = ((Data (Var 0 sort.Int) (Var 2 sort.Val) (Var 4 sort.List)) ∷ (Data (Var 1 sort.Int) (Var 3 sort.Val) (Var 5 sort.List)) ∷ []) }) }) (record { temps = (name_p ∷ []); body = (c.Then (c.Return None) c.End) }) (s.Then 1 (s.Forget (forgotten.Local name_z)) s.NoBlock (s.Then 2 (s.Return ([]) ([]) ([])) s.NoBlock s.End)) ≡ (RefusedAt 1 36 4)
unfolding computing
conditions_478 = refl

conditions_479 : body_verdict (record { predicates = ([]); specs = ((record { is_void = true; name = name_f; params = (name_p ∷ []); vars = ((name_s, sort.Int) ∷ (name_t, sort.Int) ∷ (name_v, sort.Val) ∷ (name_w, sort.Val) ∷ (name_k, sort.List) ∷ (name_m, sort.List) ∷ []); pre = (record { opened = []; facts = ([]); locals = []; items = ((Data (Var 0 sort.Int) (Var 2 sort.Val) (Var 4 sort.List)) ∷ (Data (Var 1 sort.Int) (Var 3 sort.Val) (Var 5 sort.List)) ∷ []) }); post = (record { opened = []; facts = ([]); locals = []; items = ((Data (Var 0 sort.Int) (Var 2 sort.Val) (Var 4 sort.List)) ∷ (Data (Var 1 sort.Int) (Var 3 sort.Val) (Var 5 sort.List)) ∷ []) }) }) ∷ []) }) (record { is_void = true; name = name_f; params = (name_p ∷ []); vars = ((name_s, sort.Int) ∷ (name_t, sort.Int) ∷ (name_v, sort.Val) ∷ (name_w, sort.Val) ∷ (name_k, sort.List) ∷ (name_m, sort.List) ∷ []); pre = (record { opened = []; facts = ([]); locals = []; items = ((Data (Var 0 sort.Int) (Var 2 sort.Val) (Var 4 sort.List)) ∷ (Data (Var 1 sort.Int) (Var 3 sort.Val) (Var 5 sort.List)) ∷ []) }); post = (record { opened = []; facts = ([]); locals = []; items = ((Data (Var 0 sort.Int) (Var 2 sort.Val) (Var 4 sort.List)) ∷ (Data (Var 1 sort.Int) (Var 3 sort.Val) (Var 5 sort.List)) ∷ []) }) }) (record { temps = (name_p ∷ []); body = (c.Then (c.Return None) c.End) }) (s.Then 1 (s.Forget (forgotten.Local name_p)) s.NoBlock (s.Then 2 (s.Forget (forgotten.Local name_p)) s.NoBlock (s.Then 3 (s.Return ([]) ([]) ([])) s.NoBlock s.End))) ≡ (RefusedAt 1 36 4)
unfolding computing
conditions_479 = refl

conditions_480 : body_verdict (record { predicates = ([]); specs = ((record { is_void = true; name = name_f; params = (name_p ∷ []); vars = ((name_s, sort.Int) ∷ (name_t, sort.Int) ∷ (name_v, sort.Val) ∷ (name_w, sort.Val) ∷ (name_k, sort.List) ∷ (name_m, sort.List) ∷ []); pre = (record { opened = []; facts = ((Each (Var 4 sort.List) (Var 0 sort.Int) (Var 1 sort.Int)) ∷ []); locals = []; items = ((Data (Var 0 sort.Int) (Var 2 sort.Val) (Var 4 sort.List)) ∷ (Data (Var 1 sort.Int) (Var 3 sort.Val) (Var 5 sort.List)) ∷ []) }); post = (record { opened = []; facts = ([]); locals = []; items = ((Data (Var 0 sort.Int) (Var 2 sort.Val) (Var 4 sort.List)) ∷ (Data (Var 1 sort.Int) (Var 3 sort.Val) (Var 5 sort.List)) ∷ []) }) }) ∷ []) }) (record { is_void = true; name = name_f; params = (name_p ∷ []); vars = ((name_s, sort.Int) ∷ (name_t, sort.Int) ∷ (name_v, sort.Val) ∷ (name_w, sort.Val) ∷ (name_k, sort.List) ∷ (name_m, sort.List) ∷ []); pre = (record { opened = []; facts = ((Each (Var 4 sort.List) (Var 0 sort.Int) (Var 1 sort.Int)) ∷ []); locals = []; items = ((Data (Var 0 sort.Int) (Var 2 sort.Val) (Var 4 sort.List)) ∷ (Data (Var 1 sort.Int) (Var 3 sort.Val) (Var 5 sort.List)) ∷ []) }); post = (record { opened = []; facts = ([]); locals = []; items = ((Data (Var 0 sort.Int) (Var 2 sort.Val) (Var 4 sort.List)) ∷ (Data (Var 1 sort.Int) (Var 3 sort.Val) (Var 5 sort.List)) ∷ []) }) }) (record { temps = (name_p ∷ []); body = (c.Then (c.Return None) c.End) }) (s.Then 1 (s.Have (Each (Named name_k) (Named name_s) (Named name_t)) ([])) s.NoBlock (s.Then 2 (s.Return ([]) ([]) ([])) s.NoBlock s.End)) ≡ Accepted
unfolding computing
conditions_480 = refl

conditions_481 : body_verdict (record { predicates = ([]); specs = ((record { is_void = true; name = name_f; params = (name_p ∷ []); vars = ((name_s, sort.Int) ∷ (name_t, sort.Int) ∷ (name_v, sort.Val) ∷ (name_w, sort.Val) ∷ (name_k, sort.List) ∷ (name_m, sort.List) ∷ []); pre = (record { opened = []; facts = ((Each (Var 4 sort.List) (Var 0 sort.Int) (Var 1 sort.Int)) ∷ []); locals = []; items = ((Data (Var 0 sort.Int) (Var 2 sort.Val) (Var 4 sort.List)) ∷ (Data (Var 1 sort.Int) (Var 3 sort.Val) (Var 5 sort.List)) ∷ []) }); post = (record { opened = []; facts = ([]); locals = []; items = ((Data (Var 0 sort.Int) (Var 2 sort.Val) (Var 4 sort.List)) ∷ (Data (Var 1 sort.Int) (Var 3 sort.Val) (Var 5 sort.List)) ∷ []) }) }) ∷ []) }) (record { is_void = true; name = name_f; params = (name_p ∷ []); vars = ((name_s, sort.Int) ∷ (name_t, sort.Int) ∷ (name_v, sort.Val) ∷ (name_w, sort.Val) ∷ (name_k, sort.List) ∷ (name_m, sort.List) ∷ []); pre = (record { opened = []; facts = ((Each (Var 4 sort.List) (Var 0 sort.Int) (Var 1 sort.Int)) ∷ []); locals = []; items = ((Data (Var 0 sort.Int) (Var 2 sort.Val) (Var 4 sort.List)) ∷ (Data (Var 1 sort.Int) (Var 3 sort.Val) (Var 5 sort.List)) ∷ []) }); post = (record { opened = []; facts = ([]); locals = []; items = ((Data (Var 0 sort.Int) (Var 2 sort.Val) (Var 4 sort.List)) ∷ (Data (Var 1 sort.Int) (Var 3 sort.Val) (Var 5 sort.List)) ∷ []) }) }) (record { temps = (name_p ∷ []); body = (c.Then (c.Return None) c.End) }) (s.Then 1 (s.Have (IsInt (Named name_v)) ([])) s.NoBlock (s.Then 2 (s.Return ([]) ([]) ([])) s.NoBlock s.End)) ≡ (RefusedAt 1 25 3)
unfolding computing
conditions_481 = refl

conditions_482 : body_verdict (record { predicates = ([]); specs = ((record { is_void = true; name = name_f; params = (name_p ∷ []); vars = ((name_s, sort.Int) ∷ (name_t, sort.Int) ∷ (name_v, sort.Val) ∷ (name_w, sort.Val) ∷ (name_k, sort.List) ∷ (name_m, sort.List) ∷ []); pre = (record { opened = []; facts = ((Each (Var 4 sort.List) (Var 0 sort.Int) (Var 1 sort.Int)) ∷ []); locals = []; items = ((Data (Var 0 sort.Int) (Var 2 sort.Val) (Var 4 sort.List)) ∷ (Data (Var 1 sort.Int) (Var 3 sort.Val) (Var 5 sort.List)) ∷ []) }); post = (record { opened = []; facts = ([]); locals = []; items = ((Data (Var 0 sort.Int) (Var 2 sort.Val) (Var 4 sort.List)) ∷ (Data (Var 1 sort.Int) (Var 3 sort.Val) (Var 5 sort.List)) ∷ []) }) }) ∷ []) }) (record { is_void = true; name = name_f; params = (name_p ∷ []); vars = ((name_s, sort.Int) ∷ (name_t, sort.Int) ∷ (name_v, sort.Val) ∷ (name_w, sort.Val) ∷ (name_k, sort.List) ∷ (name_m, sort.List) ∷ []); pre = (record { opened = []; facts = ((Each (Var 4 sort.List) (Var 0 sort.Int) (Var 1 sort.Int)) ∷ []); locals = []; items = ((Data (Var 0 sort.Int) (Var 2 sort.Val) (Var 4 sort.List)) ∷ (Data (Var 1 sort.Int) (Var 3 sort.Val) (Var 5 sort.List)) ∷ []) }); post = (record { opened = []; facts = ([]); locals = []; items = ((Data (Var 0 sort.Int) (Var 2 sort.Val) (Var 4 sort.List)) ∷ (Data (Var 1 sort.Int) (Var 3 sort.Val) (Var 5 sort.List)) ∷ []) }) }) (record { temps = (name_p ∷ []); body = (c.Then (c.Return None) c.End) }) (s.Then 1 (s.Have (IsPtr (Named name_v)) ([])) s.NoBlock (s.Then 2 (s.Return ([]) ([]) ([])) s.NoBlock s.End)) ≡ (RefusedAt 1 25 3)
unfolding computing
conditions_482 = refl

conditions_483 : body_verdict (record { predicates = ([]); specs = ((record { is_void = true; name = name_f; params = (name_p ∷ []); vars = ((name_s, sort.Int) ∷ (name_t, sort.Int) ∷ (name_v, sort.Val) ∷ (name_w, sort.Val) ∷ (name_k, sort.List) ∷ (name_m, sort.List) ∷ []); pre = (record { opened = []; facts = ((Each (Var 4 sort.List) (Var 0 sort.Int) (Var 1 sort.Int)) ∷ []); locals = []; items = ((Data (Var 0 sort.Int) (Var 2 sort.Val) (Var 4 sort.List)) ∷ (Data (Var 1 sort.Int) (Var 3 sort.Val) (Var 5 sort.List)) ∷ []) }); post = (record { opened = []; facts = ([]); locals = []; items = ((Data (Var 0 sort.Int) (Var 2 sort.Val) (Var 4 sort.List)) ∷ (Data (Var 1 sort.Int) (Var 3 sort.Val) (Var 5 sort.List)) ∷ []) }) }) ∷ []) }) (record { is_void = true; name = name_f; params = (name_p ∷ []); vars = ((name_s, sort.Int) ∷ (name_t, sort.Int) ∷ (name_v, sort.Val) ∷ (name_w, sort.Val) ∷ (name_k, sort.List) ∷ (name_m, sort.List) ∷ []); pre = (record { opened = []; facts = ((Each (Var 4 sort.List) (Var 0 sort.Int) (Var 1 sort.Int)) ∷ []); locals = []; items = ((Data (Var 0 sort.Int) (Var 2 sort.Val) (Var 4 sort.List)) ∷ (Data (Var 1 sort.Int) (Var 3 sort.Val) (Var 5 sort.List)) ∷ []) }); post = (record { opened = []; facts = ([]); locals = []; items = ((Data (Var 0 sort.Int) (Var 2 sort.Val) (Var 4 sort.List)) ∷ (Data (Var 1 sort.Int) (Var 3 sort.Val) (Var 5 sort.List)) ∷ []) }) }) (record { temps = (name_p ∷ []); body = (c.Then (c.Return None) c.End) }) (s.Then 1 (s.Have (Rel relation.Eq (Named name_s) (Named name_t)) ([])) s.NoBlock (s.Then 2 (s.Return ([]) ([]) ([])) s.NoBlock s.End)) ≡ (RefusedAt 1 25 3)
unfolding computing
conditions_483 = refl

conditions_484 : body_verdict (record { predicates = ([]); specs = ((record { is_void = true; name = name_f; params = (name_p ∷ []); vars = ((name_s, sort.Int) ∷ (name_t, sort.Int) ∷ (name_v, sort.Val) ∷ (name_w, sort.Val) ∷ (name_k, sort.List) ∷ (name_m, sort.List) ∷ []); pre = (record { opened = []; facts = ((Each (Var 4 sort.List) (Var 0 sort.Int) (Var 1 sort.Int)) ∷ []); locals = []; items = ((Data (Var 0 sort.Int) (Var 2 sort.Val) (Var 4 sort.List)) ∷ (Data (Var 1 sort.Int) (Var 3 sort.Val) (Var 5 sort.List)) ∷ []) }); post = (record { opened = []; facts = ([]); locals = []; items = ((Data (Var 0 sort.Int) (Var 2 sort.Val) (Var 4 sort.List)) ∷ (Data (Var 1 sort.Int) (Var 3 sort.Val) (Var 5 sort.List)) ∷ []) }) }) ∷ []) }) (record { is_void = true; name = name_f; params = (name_p ∷ []); vars = ((name_s, sort.Int) ∷ (name_t, sort.Int) ∷ (name_v, sort.Val) ∷ (name_w, sort.Val) ∷ (name_k, sort.List) ∷ (name_m, sort.List) ∷ []); pre = (record { opened = []; facts = ((Each (Var 4 sort.List) (Var 0 sort.Int) (Var 1 sort.Int)) ∷ []); locals = []; items = ((Data (Var 0 sort.Int) (Var 2 sort.Val) (Var 4 sort.List)) ∷ (Data (Var 1 sort.Int) (Var 3 sort.Val) (Var 5 sort.List)) ∷ []) }); post = (record { opened = []; facts = ([]); locals = []; items = ((Data (Var 0 sort.Int) (Var 2 sort.Val) (Var 4 sort.List)) ∷ (Data (Var 1 sort.Int) (Var 3 sort.Val) (Var 5 sort.List)) ∷ []) }) }) (record { temps = (name_p ∷ []); body = (c.Then (c.Return None) c.End) }) (s.Then 1 (s.Have (Rel relation.Ne (Named name_s) (Named name_t)) ([])) s.NoBlock (s.Then 2 (s.Return ([]) ([]) ([])) s.NoBlock s.End)) ≡ (RefusedAt 1 25 3)
unfolding computing
conditions_484 = refl

conditions_485 : body_verdict (record { predicates = ([]); specs = ((record { is_void = true; name = name_f; params = (name_p ∷ []); vars = ((name_s, sort.Int) ∷ (name_t, sort.Int) ∷ (name_v, sort.Val) ∷ (name_w, sort.Val) ∷ (name_k, sort.List) ∷ (name_m, sort.List) ∷ []); pre = (record { opened = []; facts = ((Each (Var 4 sort.List) (Var 0 sort.Int) (Var 1 sort.Int)) ∷ []); locals = []; items = ((Data (Var 0 sort.Int) (Var 2 sort.Val) (Var 4 sort.List)) ∷ (Data (Var 1 sort.Int) (Var 3 sort.Val) (Var 5 sort.List)) ∷ []) }); post = (record { opened = []; facts = ([]); locals = []; items = ((Data (Var 0 sort.Int) (Var 2 sort.Val) (Var 4 sort.List)) ∷ (Data (Var 1 sort.Int) (Var 3 sort.Val) (Var 5 sort.List)) ∷ []) }) }) ∷ []) }) (record { is_void = true; name = name_f; params = (name_p ∷ []); vars = ((name_s, sort.Int) ∷ (name_t, sort.Int) ∷ (name_v, sort.Val) ∷ (name_w, sort.Val) ∷ (name_k, sort.List) ∷ (name_m, sort.List) ∷ []); pre = (record { opened = []; facts = ((Each (Var 4 sort.List) (Var 0 sort.Int) (Var 1 sort.Int)) ∷ []); locals = []; items = ((Data (Var 0 sort.Int) (Var 2 sort.Val) (Var 4 sort.List)) ∷ (Data (Var 1 sort.Int) (Var 3 sort.Val) (Var 5 sort.List)) ∷ []) }); post = (record { opened = []; facts = ([]); locals = []; items = ((Data (Var 0 sort.Int) (Var 2 sort.Val) (Var 4 sort.List)) ∷ (Data (Var 1 sort.Int) (Var 3 sort.Val) (Var 5 sort.List)) ∷ []) }) }) (record { temps = (name_p ∷ []); body = (c.Then (c.Return None) c.End) }) (s.Then 1 (s.Have (Rel relation.Le (Named name_s) (Named name_t)) ([])) s.NoBlock (s.Then 2 (s.Return ([]) ([]) ([])) s.NoBlock s.End)) ≡ (RefusedAt 1 25 3)
unfolding computing
conditions_485 = refl

conditions_486 : body_verdict (record { predicates = ([]); specs = ((record { is_void = true; name = name_f; params = (name_p ∷ []); vars = ((name_s, sort.Int) ∷ (name_t, sort.Int) ∷ (name_v, sort.Val) ∷ (name_w, sort.Val) ∷ (name_k, sort.List) ∷ (name_m, sort.List) ∷ []); pre = (record { opened = []; facts = ((Each (Var 4 sort.List) (Var 0 sort.Int) (Var 1 sort.Int)) ∷ []); locals = []; items = ((Data (Var 0 sort.Int) (Var 2 sort.Val) (Var 4 sort.List)) ∷ (Data (Var 1 sort.Int) (Var 3 sort.Val) (Var 5 sort.List)) ∷ []) }); post = (record { opened = []; facts = ([]); locals = []; items = ((Data (Var 0 sort.Int) (Var 2 sort.Val) (Var 4 sort.List)) ∷ (Data (Var 1 sort.Int) (Var 3 sort.Val) (Var 5 sort.List)) ∷ []) }) }) ∷ []) }) (record { is_void = true; name = name_f; params = (name_p ∷ []); vars = ((name_s, sort.Int) ∷ (name_t, sort.Int) ∷ (name_v, sort.Val) ∷ (name_w, sort.Val) ∷ (name_k, sort.List) ∷ (name_m, sort.List) ∷ []); pre = (record { opened = []; facts = ((Each (Var 4 sort.List) (Var 0 sort.Int) (Var 1 sort.Int)) ∷ []); locals = []; items = ((Data (Var 0 sort.Int) (Var 2 sort.Val) (Var 4 sort.List)) ∷ (Data (Var 1 sort.Int) (Var 3 sort.Val) (Var 5 sort.List)) ∷ []) }); post = (record { opened = []; facts = ([]); locals = []; items = ((Data (Var 0 sort.Int) (Var 2 sort.Val) (Var 4 sort.List)) ∷ (Data (Var 1 sort.Int) (Var 3 sort.Val) (Var 5 sort.List)) ∷ []) }) }) (record { temps = (name_p ∷ []); body = (c.Then (c.Return None) c.End) }) (s.Then 1 (s.Have (Rel relation.Lt (Named name_s) (Named name_t)) ([])) s.NoBlock (s.Then 2 (s.Return ([]) ([]) ([])) s.NoBlock s.End)) ≡ (RefusedAt 1 25 3)
unfolding computing
conditions_486 = refl

conditions_487 : body_verdict (record { predicates = ([]); specs = ((record { is_void = true; name = name_f; params = (name_p ∷ []); vars = ((name_s, sort.Int) ∷ (name_t, sort.Int) ∷ (name_v, sort.Val) ∷ (name_w, sort.Val) ∷ (name_k, sort.List) ∷ (name_m, sort.List) ∷ []); pre = (record { opened = []; facts = ((Each (Var 4 sort.List) (Var 0 sort.Int) (Var 1 sort.Int)) ∷ []); locals = []; items = ((Data (Var 0 sort.Int) (Var 2 sort.Val) (Var 4 sort.List)) ∷ (Data (Var 1 sort.Int) (Var 3 sort.Val) (Var 5 sort.List)) ∷ []) }); post = (record { opened = []; facts = ([]); locals = []; items = ((Data (Var 0 sort.Int) (Var 2 sort.Val) (Var 4 sort.List)) ∷ (Data (Var 1 sort.Int) (Var 3 sort.Val) (Var 5 sort.List)) ∷ []) }) }) ∷ []) }) (record { is_void = true; name = name_f; params = (name_p ∷ []); vars = ((name_s, sort.Int) ∷ (name_t, sort.Int) ∷ (name_v, sort.Val) ∷ (name_w, sort.Val) ∷ (name_k, sort.List) ∷ (name_m, sort.List) ∷ []); pre = (record { opened = []; facts = ((Each (Var 4 sort.List) (Var 0 sort.Int) (Var 1 sort.Int)) ∷ []); locals = []; items = ((Data (Var 0 sort.Int) (Var 2 sort.Val) (Var 4 sort.List)) ∷ (Data (Var 1 sort.Int) (Var 3 sort.Val) (Var 5 sort.List)) ∷ []) }); post = (record { opened = []; facts = ([]); locals = []; items = ((Data (Var 0 sort.Int) (Var 2 sort.Val) (Var 4 sort.List)) ∷ (Data (Var 1 sort.Int) (Var 3 sort.Val) (Var 5 sort.List)) ∷ []) }) }) (record { temps = (name_p ∷ []); body = (c.Then (c.Return None) c.End) }) (s.Then 1 (s.Have (Rel relation.Eq (Named name_v) (Named name_w)) ([])) s.NoBlock (s.Then 2 (s.Return ([]) ([]) ([])) s.NoBlock s.End)) ≡ (RefusedAt 1 25 3)
unfolding computing
conditions_487 = refl

conditions_488 : body_verdict (record { predicates = ([]); specs = ((record { is_void = true; name = name_f; params = (name_p ∷ []); vars = ((name_s, sort.Int) ∷ (name_t, sort.Int) ∷ (name_v, sort.Val) ∷ (name_w, sort.Val) ∷ (name_k, sort.List) ∷ (name_m, sort.List) ∷ []); pre = (record { opened = []; facts = ((Each (Var 4 sort.List) (Var 0 sort.Int) (Var 1 sort.Int)) ∷ []); locals = []; items = ((Data (Var 0 sort.Int) (Var 2 sort.Val) (Var 4 sort.List)) ∷ (Data (Var 1 sort.Int) (Var 3 sort.Val) (Var 5 sort.List)) ∷ []) }); post = (record { opened = []; facts = ([]); locals = []; items = ((Data (Var 0 sort.Int) (Var 2 sort.Val) (Var 4 sort.List)) ∷ (Data (Var 1 sort.Int) (Var 3 sort.Val) (Var 5 sort.List)) ∷ []) }) }) ∷ []) }) (record { is_void = true; name = name_f; params = (name_p ∷ []); vars = ((name_s, sort.Int) ∷ (name_t, sort.Int) ∷ (name_v, sort.Val) ∷ (name_w, sort.Val) ∷ (name_k, sort.List) ∷ (name_m, sort.List) ∷ []); pre = (record { opened = []; facts = ((Each (Var 4 sort.List) (Var 0 sort.Int) (Var 1 sort.Int)) ∷ []); locals = []; items = ((Data (Var 0 sort.Int) (Var 2 sort.Val) (Var 4 sort.List)) ∷ (Data (Var 1 sort.Int) (Var 3 sort.Val) (Var 5 sort.List)) ∷ []) }); post = (record { opened = []; facts = ([]); locals = []; items = ((Data (Var 0 sort.Int) (Var 2 sort.Val) (Var 4 sort.List)) ∷ (Data (Var 1 sort.Int) (Var 3 sort.Val) (Var 5 sort.List)) ∷ []) }) }) (record { temps = (name_p ∷ []); body = (c.Then (c.Return None) c.End) }) (s.Then 1 (s.Have (Rel relation.Ne (Named name_v) (Named name_w)) ([])) s.NoBlock (s.Then 2 (s.Return ([]) ([]) ([])) s.NoBlock s.End)) ≡ (RefusedAt 1 25 3)
unfolding computing
conditions_488 = refl

conditions_489 : body_verdict (record { predicates = ([]); specs = ((record { is_void = true; name = name_f; params = (name_p ∷ []); vars = ((name_s, sort.Int) ∷ (name_t, sort.Int) ∷ (name_v, sort.Val) ∷ (name_w, sort.Val) ∷ (name_k, sort.List) ∷ (name_m, sort.List) ∷ []); pre = (record { opened = []; facts = ((Each (Var 4 sort.List) (Var 1 sort.Int) (Var 0 sort.Int)) ∷ []); locals = []; items = ((Data (Var 0 sort.Int) (Var 2 sort.Val) (Var 4 sort.List)) ∷ (Data (Var 1 sort.Int) (Var 3 sort.Val) (Var 5 sort.List)) ∷ []) }); post = (record { opened = []; facts = ([]); locals = []; items = ((Data (Var 0 sort.Int) (Var 2 sort.Val) (Var 4 sort.List)) ∷ (Data (Var 1 sort.Int) (Var 3 sort.Val) (Var 5 sort.List)) ∷ []) }) }) ∷ []) }) (record { is_void = true; name = name_f; params = (name_p ∷ []); vars = ((name_s, sort.Int) ∷ (name_t, sort.Int) ∷ (name_v, sort.Val) ∷ (name_w, sort.Val) ∷ (name_k, sort.List) ∷ (name_m, sort.List) ∷ []); pre = (record { opened = []; facts = ((Each (Var 4 sort.List) (Var 1 sort.Int) (Var 0 sort.Int)) ∷ []); locals = []; items = ((Data (Var 0 sort.Int) (Var 2 sort.Val) (Var 4 sort.List)) ∷ (Data (Var 1 sort.Int) (Var 3 sort.Val) (Var 5 sort.List)) ∷ []) }); post = (record { opened = []; facts = ([]); locals = []; items = ((Data (Var 0 sort.Int) (Var 2 sort.Val) (Var 4 sort.List)) ∷ (Data (Var 1 sort.Int) (Var 3 sort.Val) (Var 5 sort.List)) ∷ []) }) }) (record { temps = (name_p ∷ []); body = (c.Then (c.Return None) c.End) }) (s.Then 1 (s.Have (Each (Named name_k) (Named name_s) (Named name_t)) ([])) s.NoBlock (s.Then 2 (s.Return ([]) ([]) ([])) s.NoBlock s.End)) ≡ (RefusedAt 1 25 3)
unfolding computing
conditions_489 = refl

conditions_490 : body_verdict (record { predicates = ([]); specs = ((record { is_void = true; name = name_f; params = (name_p ∷ []); vars = ((name_s, sort.Int) ∷ (name_t, sort.Int) ∷ (name_v, sort.Val) ∷ (name_w, sort.Val) ∷ (name_k, sort.List) ∷ (name_m, sort.List) ∷ []); pre = (record { opened = []; facts = ((Each (Var 4 sort.List) (Var 1 sort.Int) (Var 0 sort.Int)) ∷ []); locals = []; items = ((Data (Var 0 sort.Int) (Var 2 sort.Val) (Var 4 sort.List)) ∷ (Data (Var 1 sort.Int) (Var 3 sort.Val) (Var 5 sort.List)) ∷ []) }); post = (record { opened = []; facts = ([]); locals = []; items = ((Data (Var 0 sort.Int) (Var 2 sort.Val) (Var 4 sort.List)) ∷ (Data (Var 1 sort.Int) (Var 3 sort.Val) (Var 5 sort.List)) ∷ []) }) }) ∷ []) }) (record { is_void = true; name = name_f; params = (name_p ∷ []); vars = ((name_s, sort.Int) ∷ (name_t, sort.Int) ∷ (name_v, sort.Val) ∷ (name_w, sort.Val) ∷ (name_k, sort.List) ∷ (name_m, sort.List) ∷ []); pre = (record { opened = []; facts = ((Each (Var 4 sort.List) (Var 1 sort.Int) (Var 0 sort.Int)) ∷ []); locals = []; items = ((Data (Var 0 sort.Int) (Var 2 sort.Val) (Var 4 sort.List)) ∷ (Data (Var 1 sort.Int) (Var 3 sort.Val) (Var 5 sort.List)) ∷ []) }); post = (record { opened = []; facts = ([]); locals = []; items = ((Data (Var 0 sort.Int) (Var 2 sort.Val) (Var 4 sort.List)) ∷ (Data (Var 1 sort.Int) (Var 3 sort.Val) (Var 5 sort.List)) ∷ []) }) }) (record { temps = (name_p ∷ []); body = (c.Then (c.Return None) c.End) }) (s.Then 1 (s.Have (IsInt (Named name_v)) ([])) s.NoBlock (s.Then 2 (s.Return ([]) ([]) ([])) s.NoBlock s.End)) ≡ (RefusedAt 1 25 3)
unfolding computing
conditions_490 = refl

conditions_491 : body_verdict (record { predicates = ([]); specs = ((record { is_void = true; name = name_f; params = (name_p ∷ []); vars = ((name_s, sort.Int) ∷ (name_t, sort.Int) ∷ (name_v, sort.Val) ∷ (name_w, sort.Val) ∷ (name_k, sort.List) ∷ (name_m, sort.List) ∷ []); pre = (record { opened = []; facts = ((Each (Var 4 sort.List) (Var 1 sort.Int) (Var 0 sort.Int)) ∷ []); locals = []; items = ((Data (Var 0 sort.Int) (Var 2 sort.Val) (Var 4 sort.List)) ∷ (Data (Var 1 sort.Int) (Var 3 sort.Val) (Var 5 sort.List)) ∷ []) }); post = (record { opened = []; facts = ([]); locals = []; items = ((Data (Var 0 sort.Int) (Var 2 sort.Val) (Var 4 sort.List)) ∷ (Data (Var 1 sort.Int) (Var 3 sort.Val) (Var 5 sort.List)) ∷ []) }) }) ∷ []) }) (record { is_void = true; name = name_f; params = (name_p ∷ []); vars = ((name_s, sort.Int) ∷ (name_t, sort.Int) ∷ (name_v, sort.Val) ∷ (name_w, sort.Val) ∷ (name_k, sort.List) ∷ (name_m, sort.List) ∷ []); pre = (record { opened = []; facts = ((Each (Var 4 sort.List) (Var 1 sort.Int) (Var 0 sort.Int)) ∷ []); locals = []; items = ((Data (Var 0 sort.Int) (Var 2 sort.Val) (Var 4 sort.List)) ∷ (Data (Var 1 sort.Int) (Var 3 sort.Val) (Var 5 sort.List)) ∷ []) }); post = (record { opened = []; facts = ([]); locals = []; items = ((Data (Var 0 sort.Int) (Var 2 sort.Val) (Var 4 sort.List)) ∷ (Data (Var 1 sort.Int) (Var 3 sort.Val) (Var 5 sort.List)) ∷ []) }) }) (record { temps = (name_p ∷ []); body = (c.Then (c.Return None) c.End) }) (s.Then 1 (s.Have (IsPtr (Named name_v)) ([])) s.NoBlock (s.Then 2 (s.Return ([]) ([]) ([])) s.NoBlock s.End)) ≡ (RefusedAt 1 25 3)
unfolding computing
conditions_491 = refl

conditions_492 : body_verdict (record { predicates = ([]); specs = ((record { is_void = true; name = name_f; params = (name_p ∷ []); vars = ((name_s, sort.Int) ∷ (name_t, sort.Int) ∷ (name_v, sort.Val) ∷ (name_w, sort.Val) ∷ (name_k, sort.List) ∷ (name_m, sort.List) ∷ []); pre = (record { opened = []; facts = ((Each (Var 4 sort.List) (Var 1 sort.Int) (Var 0 sort.Int)) ∷ []); locals = []; items = ((Data (Var 0 sort.Int) (Var 2 sort.Val) (Var 4 sort.List)) ∷ (Data (Var 1 sort.Int) (Var 3 sort.Val) (Var 5 sort.List)) ∷ []) }); post = (record { opened = []; facts = ([]); locals = []; items = ((Data (Var 0 sort.Int) (Var 2 sort.Val) (Var 4 sort.List)) ∷ (Data (Var 1 sort.Int) (Var 3 sort.Val) (Var 5 sort.List)) ∷ []) }) }) ∷ []) }) (record { is_void = true; name = name_f; params = (name_p ∷ []); vars = ((name_s, sort.Int) ∷ (name_t, sort.Int) ∷ (name_v, sort.Val) ∷ (name_w, sort.Val) ∷ (name_k, sort.List) ∷ (name_m, sort.List) ∷ []); pre = (record { opened = []; facts = ((Each (Var 4 sort.List) (Var 1 sort.Int) (Var 0 sort.Int)) ∷ []); locals = []; items = ((Data (Var 0 sort.Int) (Var 2 sort.Val) (Var 4 sort.List)) ∷ (Data (Var 1 sort.Int) (Var 3 sort.Val) (Var 5 sort.List)) ∷ []) }); post = (record { opened = []; facts = ([]); locals = []; items = ((Data (Var 0 sort.Int) (Var 2 sort.Val) (Var 4 sort.List)) ∷ (Data (Var 1 sort.Int) (Var 3 sort.Val) (Var 5 sort.List)) ∷ []) }) }) (record { temps = (name_p ∷ []); body = (c.Then (c.Return None) c.End) }) (s.Then 1 (s.Have (Rel relation.Eq (Named name_s) (Named name_t)) ([])) s.NoBlock (s.Then 2 (s.Return ([]) ([]) ([])) s.NoBlock s.End)) ≡ (RefusedAt 1 25 3)
unfolding computing
conditions_492 = refl

conditions_493 : body_verdict (record { predicates = ([]); specs = ((record { is_void = true; name = name_f; params = (name_p ∷ []); vars = ((name_s, sort.Int) ∷ (name_t, sort.Int) ∷ (name_v, sort.Val) ∷ (name_w, sort.Val) ∷ (name_k, sort.List) ∷ (name_m, sort.List) ∷ []); pre = (record { opened = []; facts = ((Each (Var 4 sort.List) (Var 1 sort.Int) (Var 0 sort.Int)) ∷ []); locals = []; items = ((Data (Var 0 sort.Int) (Var 2 sort.Val) (Var 4 sort.List)) ∷ (Data (Var 1 sort.Int) (Var 3 sort.Val) (Var 5 sort.List)) ∷ []) }); post = (record { opened = []; facts = ([]); locals = []; items = ((Data (Var 0 sort.Int) (Var 2 sort.Val) (Var 4 sort.List)) ∷ (Data (Var 1 sort.Int) (Var 3 sort.Val) (Var 5 sort.List)) ∷ []) }) }) ∷ []) }) (record { is_void = true; name = name_f; params = (name_p ∷ []); vars = ((name_s, sort.Int) ∷ (name_t, sort.Int) ∷ (name_v, sort.Val) ∷ (name_w, sort.Val) ∷ (name_k, sort.List) ∷ (name_m, sort.List) ∷ []); pre = (record { opened = []; facts = ((Each (Var 4 sort.List) (Var 1 sort.Int) (Var 0 sort.Int)) ∷ []); locals = []; items = ((Data (Var 0 sort.Int) (Var 2 sort.Val) (Var 4 sort.List)) ∷ (Data (Var 1 sort.Int) (Var 3 sort.Val) (Var 5 sort.List)) ∷ []) }); post = (record { opened = []; facts = ([]); locals = []; items = ((Data (Var 0 sort.Int) (Var 2 sort.Val) (Var 4 sort.List)) ∷ (Data (Var 1 sort.Int) (Var 3 sort.Val) (Var 5 sort.List)) ∷ []) }) }) (record { temps = (name_p ∷ []); body = (c.Then (c.Return None) c.End) }) (s.Then 1 (s.Have (Rel relation.Ne (Named name_s) (Named name_t)) ([])) s.NoBlock (s.Then 2 (s.Return ([]) ([]) ([])) s.NoBlock s.End)) ≡ (RefusedAt 1 25 3)
unfolding computing
conditions_493 = refl

conditions_494 : body_verdict (record { predicates = ([]); specs = ((record { is_void = true; name = name_f; params = (name_p ∷ []); vars = ((name_s, sort.Int) ∷ (name_t, sort.Int) ∷ (name_v, sort.Val) ∷ (name_w, sort.Val) ∷ (name_k, sort.List) ∷ (name_m, sort.List) ∷ []); pre = (record { opened = []; facts = ((Each (Var 4 sort.List) (Var 1 sort.Int) (Var 0 sort.Int)) ∷ []); locals = []; items = ((Data (Var 0 sort.Int) (Var 2 sort.Val) (Var 4 sort.List)) ∷ (Data (Var 1 sort.Int) (Var 3 sort.Val) (Var 5 sort.List)) ∷ []) }); post = (record { opened = []; facts = ([]); locals = []; items = ((Data (Var 0 sort.Int) (Var 2 sort.Val) (Var 4 sort.List)) ∷ (Data (Var 1 sort.Int) (Var 3 sort.Val) (Var 5 sort.List)) ∷ []) }) }) ∷ []) }) (record { is_void = true; name = name_f; params = (name_p ∷ []); vars = ((name_s, sort.Int) ∷ (name_t, sort.Int) ∷ (name_v, sort.Val) ∷ (name_w, sort.Val) ∷ (name_k, sort.List) ∷ (name_m, sort.List) ∷ []); pre = (record { opened = []; facts = ((Each (Var 4 sort.List) (Var 1 sort.Int) (Var 0 sort.Int)) ∷ []); locals = []; items = ((Data (Var 0 sort.Int) (Var 2 sort.Val) (Var 4 sort.List)) ∷ (Data (Var 1 sort.Int) (Var 3 sort.Val) (Var 5 sort.List)) ∷ []) }); post = (record { opened = []; facts = ([]); locals = []; items = ((Data (Var 0 sort.Int) (Var 2 sort.Val) (Var 4 sort.List)) ∷ (Data (Var 1 sort.Int) (Var 3 sort.Val) (Var 5 sort.List)) ∷ []) }) }) (record { temps = (name_p ∷ []); body = (c.Then (c.Return None) c.End) }) (s.Then 1 (s.Have (Rel relation.Le (Named name_s) (Named name_t)) ([])) s.NoBlock (s.Then 2 (s.Return ([]) ([]) ([])) s.NoBlock s.End)) ≡ (RefusedAt 1 25 3)
unfolding computing
conditions_494 = refl

conditions_495 : body_verdict (record { predicates = ([]); specs = ((record { is_void = true; name = name_f; params = (name_p ∷ []); vars = ((name_s, sort.Int) ∷ (name_t, sort.Int) ∷ (name_v, sort.Val) ∷ (name_w, sort.Val) ∷ (name_k, sort.List) ∷ (name_m, sort.List) ∷ []); pre = (record { opened = []; facts = ((Each (Var 4 sort.List) (Var 1 sort.Int) (Var 0 sort.Int)) ∷ []); locals = []; items = ((Data (Var 0 sort.Int) (Var 2 sort.Val) (Var 4 sort.List)) ∷ (Data (Var 1 sort.Int) (Var 3 sort.Val) (Var 5 sort.List)) ∷ []) }); post = (record { opened = []; facts = ([]); locals = []; items = ((Data (Var 0 sort.Int) (Var 2 sort.Val) (Var 4 sort.List)) ∷ (Data (Var 1 sort.Int) (Var 3 sort.Val) (Var 5 sort.List)) ∷ []) }) }) ∷ []) }) (record { is_void = true; name = name_f; params = (name_p ∷ []); vars = ((name_s, sort.Int) ∷ (name_t, sort.Int) ∷ (name_v, sort.Val) ∷ (name_w, sort.Val) ∷ (name_k, sort.List) ∷ (name_m, sort.List) ∷ []); pre = (record { opened = []; facts = ((Each (Var 4 sort.List) (Var 1 sort.Int) (Var 0 sort.Int)) ∷ []); locals = []; items = ((Data (Var 0 sort.Int) (Var 2 sort.Val) (Var 4 sort.List)) ∷ (Data (Var 1 sort.Int) (Var 3 sort.Val) (Var 5 sort.List)) ∷ []) }); post = (record { opened = []; facts = ([]); locals = []; items = ((Data (Var 0 sort.Int) (Var 2 sort.Val) (Var 4 sort.List)) ∷ (Data (Var 1 sort.Int) (Var 3 sort.Val) (Var 5 sort.List)) ∷ []) }) }) (record { temps = (name_p ∷ []); body = (c.Then (c.Return None) c.End) }) (s.Then 1 (s.Have (Rel relation.Lt (Named name_s) (Named name_t)) ([])) s.NoBlock (s.Then 2 (s.Return ([]) ([]) ([])) s.NoBlock s.End)) ≡ (RefusedAt 1 25 3)
unfolding computing
conditions_495 = refl

conditions_496 : body_verdict (record { predicates = ([]); specs = ((record { is_void = true; name = name_f; params = (name_p ∷ []); vars = ((name_s, sort.Int) ∷ (name_t, sort.Int) ∷ (name_v, sort.Val) ∷ (name_w, sort.Val) ∷ (name_k, sort.List) ∷ (name_m, sort.List) ∷ []); pre = (record { opened = []; facts = ((Each (Var 4 sort.List) (Var 1 sort.Int) (Var 0 sort.Int)) ∷ []); locals = []; items = ((Data (Var 0 sort.Int) (Var 2 sort.Val) (Var 4 sort.List)) ∷ (Data (Var 1 sort.Int) (Var 3 sort.Val) (Var 5 sort.List)) ∷ []) }); post = (record { opened = []; facts = ([]); locals = []; items = ((Data (Var 0 sort.Int) (Var 2 sort.Val) (Var 4 sort.List)) ∷ (Data (Var 1 sort.Int) (Var 3 sort.Val) (Var 5 sort.List)) ∷ []) }) }) ∷ []) }) (record { is_void = true; name = name_f; params = (name_p ∷ []); vars = ((name_s, sort.Int) ∷ (name_t, sort.Int) ∷ (name_v, sort.Val) ∷ (name_w, sort.Val) ∷ (name_k, sort.List) ∷ (name_m, sort.List) ∷ []); pre = (record { opened = []; facts = ((Each (Var 4 sort.List) (Var 1 sort.Int) (Var 0 sort.Int)) ∷ []); locals = []; items = ((Data (Var 0 sort.Int) (Var 2 sort.Val) (Var 4 sort.List)) ∷ (Data (Var 1 sort.Int) (Var 3 sort.Val) (Var 5 sort.List)) ∷ []) }); post = (record { opened = []; facts = ([]); locals = []; items = ((Data (Var 0 sort.Int) (Var 2 sort.Val) (Var 4 sort.List)) ∷ (Data (Var 1 sort.Int) (Var 3 sort.Val) (Var 5 sort.List)) ∷ []) }) }) (record { temps = (name_p ∷ []); body = (c.Then (c.Return None) c.End) }) (s.Then 1 (s.Have (Rel relation.Eq (Named name_v) (Named name_w)) ([])) s.NoBlock (s.Then 2 (s.Return ([]) ([]) ([])) s.NoBlock s.End)) ≡ (RefusedAt 1 25 3)
unfolding computing
conditions_496 = refl

conditions_497 : body_verdict (record { predicates = ([]); specs = ((record { is_void = true; name = name_f; params = (name_p ∷ []); vars = ((name_s, sort.Int) ∷ (name_t, sort.Int) ∷ (name_v, sort.Val) ∷ (name_w, sort.Val) ∷ (name_k, sort.List) ∷ (name_m, sort.List) ∷ []); pre = (record { opened = []; facts = ((Each (Var 4 sort.List) (Var 1 sort.Int) (Var 0 sort.Int)) ∷ []); locals = []; items = ((Data (Var 0 sort.Int) (Var 2 sort.Val) (Var 4 sort.List)) ∷ (Data (Var 1 sort.Int) (Var 3 sort.Val) (Var 5 sort.List)) ∷ []) }); post = (record { opened = []; facts = ([]); locals = []; items = ((Data (Var 0 sort.Int) (Var 2 sort.Val) (Var 4 sort.List)) ∷ (Data (Var 1 sort.Int) (Var 3 sort.Val) (Var 5 sort.List)) ∷ []) }) }) ∷ []) }) (record { is_void = true; name = name_f; params = (name_p ∷ []); vars = ((name_s, sort.Int) ∷ (name_t, sort.Int) ∷ (name_v, sort.Val) ∷ (name_w, sort.Val) ∷ (name_k, sort.List) ∷ (name_m, sort.List) ∷ []); pre = (record { opened = []; facts = ((Each (Var 4 sort.List) (Var 1 sort.Int) (Var 0 sort.Int)) ∷ []); locals = []; items = ((Data (Var 0 sort.Int) (Var 2 sort.Val) (Var 4 sort.List)) ∷ (Data (Var 1 sort.Int) (Var 3 sort.Val) (Var 5 sort.List)) ∷ []) }); post = (record { opened = []; facts = ([]); locals = []; items = ((Data (Var 0 sort.Int) (Var 2 sort.Val) (Var 4 sort.List)) ∷ (Data (Var 1 sort.Int) (Var 3 sort.Val) (Var 5 sort.List)) ∷ []) }) }) (record { temps = (name_p ∷ []); body = (c.Then (c.Return None) c.End) }) (s.Then 1 (s.Have (Rel relation.Ne (Named name_v) (Named name_w)) ([])) s.NoBlock (s.Then 2 (s.Return ([]) ([]) ([])) s.NoBlock s.End)) ≡ (RefusedAt 1 25 3)
unfolding computing
conditions_497 = refl

conditions_498 : body_verdict (record { predicates = ([]); specs = ((record { is_void = true; name = name_f; params = (name_p ∷ []); vars = ((name_s, sort.Int) ∷ (name_t, sort.Int) ∷ (name_v, sort.Val) ∷ (name_w, sort.Val) ∷ (name_k, sort.List) ∷ (name_m, sort.List) ∷ []); pre = (record { opened = []; facts = ((Each (Var 5 sort.List) (Var 0 sort.Int) (Var 1 sort.Int)) ∷ []); locals = []; items = ((Data (Var 0 sort.Int) (Var 2 sort.Val) (Var 4 sort.List)) ∷ (Data (Var 1 sort.Int) (Var 3 sort.Val) (Var 5 sort.List)) ∷ []) }); post = (record { opened = []; facts = ([]); locals = []; items = ((Data (Var 0 sort.Int) (Var 2 sort.Val) (Var 4 sort.List)) ∷ (Data (Var 1 sort.Int) (Var 3 sort.Val) (Var 5 sort.List)) ∷ []) }) }) ∷ []) }) (record { is_void = true; name = name_f; params = (name_p ∷ []); vars = ((name_s, sort.Int) ∷ (name_t, sort.Int) ∷ (name_v, sort.Val) ∷ (name_w, sort.Val) ∷ (name_k, sort.List) ∷ (name_m, sort.List) ∷ []); pre = (record { opened = []; facts = ((Each (Var 5 sort.List) (Var 0 sort.Int) (Var 1 sort.Int)) ∷ []); locals = []; items = ((Data (Var 0 sort.Int) (Var 2 sort.Val) (Var 4 sort.List)) ∷ (Data (Var 1 sort.Int) (Var 3 sort.Val) (Var 5 sort.List)) ∷ []) }); post = (record { opened = []; facts = ([]); locals = []; items = ((Data (Var 0 sort.Int) (Var 2 sort.Val) (Var 4 sort.List)) ∷ (Data (Var 1 sort.Int) (Var 3 sort.Val) (Var 5 sort.List)) ∷ []) }) }) (record { temps = (name_p ∷ []); body = (c.Then (c.Return None) c.End) }) (s.Then 1 (s.Have (Each (Named name_k) (Named name_s) (Named name_t)) ([])) s.NoBlock (s.Then 2 (s.Return ([]) ([]) ([])) s.NoBlock s.End)) ≡ (RefusedAt 1 25 3)
unfolding computing
conditions_498 = refl

conditions_499 : body_verdict (record { predicates = ([]); specs = ((record { is_void = true; name = name_f; params = (name_p ∷ []); vars = ((name_s, sort.Int) ∷ (name_t, sort.Int) ∷ (name_v, sort.Val) ∷ (name_w, sort.Val) ∷ (name_k, sort.List) ∷ (name_m, sort.List) ∷ []); pre = (record { opened = []; facts = ((Each (Var 5 sort.List) (Var 0 sort.Int) (Var 1 sort.Int)) ∷ []); locals = []; items = ((Data (Var 0 sort.Int) (Var 2 sort.Val) (Var 4 sort.List)) ∷ (Data (Var 1 sort.Int) (Var 3 sort.Val) (Var 5 sort.List)) ∷ []) }); post = (record { opened = []; facts = ([]); locals = []; items = ((Data (Var 0 sort.Int) (Var 2 sort.Val) (Var 4 sort.List)) ∷ (Data (Var 1 sort.Int) (Var 3 sort.Val) (Var 5 sort.List)) ∷ []) }) }) ∷ []) }) (record { is_void = true; name = name_f; params = (name_p ∷ []); vars = ((name_s, sort.Int) ∷ (name_t, sort.Int) ∷ (name_v, sort.Val) ∷ (name_w, sort.Val) ∷ (name_k, sort.List) ∷ (name_m, sort.List) ∷ []); pre = (record { opened = []; facts = ((Each (Var 5 sort.List) (Var 0 sort.Int) (Var 1 sort.Int)) ∷ []); locals = []; items = ((Data (Var 0 sort.Int) (Var 2 sort.Val) (Var 4 sort.List)) ∷ (Data (Var 1 sort.Int) (Var 3 sort.Val) (Var 5 sort.List)) ∷ []) }); post = (record { opened = []; facts = ([]); locals = []; items = ((Data (Var 0 sort.Int) (Var 2 sort.Val) (Var 4 sort.List)) ∷ (Data (Var 1 sort.Int) (Var 3 sort.Val) (Var 5 sort.List)) ∷ []) }) }) (record { temps = (name_p ∷ []); body = (c.Then (c.Return None) c.End) }) (s.Then 1 (s.Have (IsInt (Named name_v)) ([])) s.NoBlock (s.Then 2 (s.Return ([]) ([]) ([])) s.NoBlock s.End)) ≡ (RefusedAt 1 25 3)
unfolding computing
conditions_499 = refl

conditions_500 : body_verdict (record { predicates = ([]); specs = ((record { is_void = true; name = name_f; params = (name_p ∷ []); vars = ((name_s, sort.Int) ∷ (name_t, sort.Int) ∷ (name_v, sort.Val) ∷ (name_w, sort.Val) ∷ (name_k, sort.List) ∷ (name_m, sort.List) ∷ []); pre = (record { opened = []; facts = ((Each (Var 5 sort.List) (Var 0 sort.Int) (Var 1 sort.Int)) ∷ []); locals = []; items = ((Data (Var 0 sort.Int) (Var 2 sort.Val) (Var 4 sort.List)) ∷ (Data (Var 1 sort.Int) (Var 3 sort.Val) (Var 5 sort.List)) ∷ []) }); post = (record { opened = []; facts = ([]); locals = []; items = ((Data (Var 0 sort.Int) (Var 2 sort.Val) (Var 4 sort.List)) ∷ (Data (Var 1 sort.Int) (Var 3 sort.Val) (Var 5 sort.List)) ∷ []) }) }) ∷ []) }) (record { is_void = true; name = name_f; params = (name_p ∷ []); vars = ((name_s, sort.Int) ∷ (name_t, sort.Int) ∷ (name_v, sort.Val) ∷ (name_w, sort.Val) ∷ (name_k, sort.List) ∷ (name_m, sort.List) ∷ []); pre = (record { opened = []; facts = ((Each (Var 5 sort.List) (Var 0 sort.Int) (Var 1 sort.Int)) ∷ []); locals = []; items = ((Data (Var 0 sort.Int) (Var 2 sort.Val) (Var 4 sort.List)) ∷ (Data (Var 1 sort.Int) (Var 3 sort.Val) (Var 5 sort.List)) ∷ []) }); post = (record { opened = []; facts = ([]); locals = []; items = ((Data (Var 0 sort.Int) (Var 2 sort.Val) (Var 4 sort.List)) ∷ (Data (Var 1 sort.Int) (Var 3 sort.Val) (Var 5 sort.List)) ∷ []) }) }) (record { temps = (name_p ∷ []); body = (c.Then (c.Return None) c.End) }) (s.Then 1 (s.Have (IsPtr (Named name_v)) ([])) s.NoBlock (s.Then 2 (s.Return ([]) ([]) ([])) s.NoBlock s.End)) ≡ (RefusedAt 1 25 3)
unfolding computing
conditions_500 = refl
