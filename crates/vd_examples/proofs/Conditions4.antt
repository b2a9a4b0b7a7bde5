-- Each condition of each rule, where it holds and where it fails.
use Rattle.std.specs.Prelude.{◌≡◌, refl, pos, [], ◌∷◌, true, false, Some, None}
use Rattle.vd_terms.specs.Terms.{Number, Var, Named, Undef, Nil, Of, Of2}
use Rattle.vd_terms.specs.declared.assertion.FactOf.TheVariants.{Rel, IsPtr}
use Rattle.vd_terms.specs.declared.assertion.ItemOf.TheVariants.{Data, Lock, Holds, Pred}
use Rattle.vd_rules.specs.Computing.{computing}
use Rattle.vd_rules.specs.Verdicts.{Accepted, RefusedAt, body_verdict}
use Rattle.vd_terms.specs.declared.operation.Unary.TheVariants as unary
use Rattle.vd_terms.specs.declared.operation.Binary.TheVariants as binary
use Rattle.vd_logic.specs.declared.term.Sort.TheVariants as sort
use Rattle.vd_logic.specs.declared.assertion.Rel.TheVariants as relation
use Rattle.vd_logic.specs.declared.step.Forgotten.TheVariants as forgotten
use Rattle.vd_clight.specs.declared.typed.Kind.TheVariants as kind
use Rattle.vd_clight.specs.declared.typed.Root.TheVariants as root
use Rattle.vd_clight.specs.declared.typed.LockOp.TheVariants as lock
use Rattle.vd_steps.specs.Code as c
use Rattle.vd_steps.specs.Script as s
use Rattle.vd_examples.specs.Names.{name_A, name_a, name_f, name_g, name_i, name_k, name_m, name_n, name_p, name_q, name_t, name_v, name_w, name_z}

conditions_301 : body_verdict (record { predicates = ([]); specs = ((record { is_void = false; name = name_f; params = (name_p ∷ []); vars = ((name_v, sort.Val) ∷ []); pre = (record { opened = []; facts = ([]); locals = ((name_p, (Var 0 sort.Val)) ∷ []); items = ((Data (Number (pos 64)) (Var 0 sort.Val) (Of2 binary.Cons (Of unary.Vi (Number (pos 4))) Nil)) ∷ []) }); post = (record { opened = (sort.Val ∷ []); facts = ([]); locals = []; items = ((Data (Number (pos 64)) (Var 0 sort.Val) (Of2 binary.Cons (Of unary.Vi (Number (pos 4))) Nil)) ∷ []) }) }) ∷ []) }) (record { is_void = false; name = name_f; params = (name_p ∷ []); vars = ((name_v, sort.Val) ∷ []); pre = (record { opened = []; facts = ([]); locals = ((name_p, (Var 0 sort.Val)) ∷ []); items = ((Data (Number (pos 64)) (Var 0 sort.Val) (Of2 binary.Cons (Of unary.Vi (Number (pos 4))) Nil)) ∷ []) }); post = (record { opened = (sort.Val ∷ []); facts = ([]); locals = []; items = ((Data (Number (pos 64)) (Var 0 sort.Val) (Of2 binary.Cons (Of unary.Vi (Number (pos 4))) Nil)) ∷ []) }) }) (record { temps = (name_p ∷ name_t ∷ []); body = (c.Then (c.Malloc 1 1) (c.Then (c.Return (Some (c.Temp 1))) c.End)) }) (s.Then 1 (s.Malloc name_m ([]) ([])) (s.WithBlock (s.Then 2 (s.Return ([]) ([]) ([])) s.NoBlock s.End) (s.WithBlock (s.Then 3 (s.Return ([]) ([]) ([])) s.NoBlock s.End) s.NoBlock)) s.End) ≡ (RefusedAt 2 9 1)
unfolding computing
conditions_301 = refl

conditions_302 : body_verdict (record { predicates = ([]); specs = ((record { is_void = false; name = name_f; params = (name_p ∷ []); vars = ((name_v, sort.Val) ∷ []); pre = (record { opened = []; facts = ([]); locals = ((name_p, (Var 0 sort.Val)) ∷ []); items = ((Data (Number (pos 64)) (Var 0 sort.Val) (Of2 binary.Cons (Of unary.Vi (Number (pos 4))) Nil)) ∷ []) }); post = (record { opened = []; facts = ((Rel relation.Eq (Var 1 sort.Val) (Of unary.Vi (Number (pos 0)))) ∷ []); locals = []; items = ((Data (Number (pos 64)) (Var 0 sort.Val) (Of2 binary.Cons (Of unary.Vi (Number (pos 4))) Nil)) ∷ []) }) }) ∷ []) }) (record { is_void = false; name = name_f; params = (name_p ∷ []); vars = ((name_v, sort.Val) ∷ []); pre = (record { opened = []; facts = ([]); locals = ((name_p, (Var 0 sort.Val)) ∷ []); items = ((Data (Number (pos 64)) (Var 0 sort.Val) (Of2 binary.Cons (Of unary.Vi (Number (pos 4))) Nil)) ∷ []) }); post = (record { opened = []; facts = ((Rel relation.Eq (Var 1 sort.Val) (Of unary.Vi (Number (pos 0)))) ∷ []); locals = []; items = ((Data (Number (pos 64)) (Var 0 sort.Val) (Of2 binary.Cons (Of unary.Vi (Number (pos 4))) Nil)) ∷ []) }) }) (record { temps = (name_p ∷ name_t ∷ []); body = (c.Then (c.Malloc 1 1) (c.Then (c.Return (Some (c.Temp 1))) c.End)) }) (s.Then 1 (s.Malloc name_m ([]) ([])) (s.WithBlock (s.Then 2 (s.Return ([]) ([]) ([])) s.NoBlock s.End) (s.WithBlock (s.Then 3 (s.Return ([]) ([]) ([])) s.NoBlock s.End) s.NoBlock)) s.End) ≡ (RefusedAt 3 9 3)
unfolding computing
conditions_302 = refl

conditions_303 : body_verdict (record { predicates = ([]); specs = ((record { is_void = false; name = name_f; params = (name_p ∷ []); vars = ((name_v, sort.Val) ∷ []); pre = (record { opened = []; facts = ([]); locals = ((name_p, (Var 0 sort.Val)) ∷ []); items = ((Data (Number (pos 64)) (Var 0 sort.Val) (Of2 binary.Cons (Of unary.Vi (Number (pos 4))) Nil)) ∷ []) }); post = (record { opened = (sort.Val ∷ []); facts = ((Rel relation.Eq (Var 1 sort.Val) (Of unary.Vi (Number (pos 0)))) ∷ []); locals = []; items = ((Data (Number (pos 64)) (Var 0 sort.Val) (Of2 binary.Cons (Of unary.Vi (Number (pos 4))) Nil)) ∷ []) }) }) ∷ []) }) (record { is_void = false; name = name_f; params = (name_p ∷ []); vars = ((name_v, sort.Val) ∷ []); pre = (record { opened = []; facts = ([]); locals = ((name_p, (Var 0 sort.Val)) ∷ []); items = ((Data (Number (pos 64)) (Var 0 sort.Val) (Of2 binary.Cons (Of unary.Vi (Number (pos 4))) Nil)) ∷ []) }); post = (record { opened = (sort.Val ∷ []); facts = ((Rel relation.Eq (Var 1 sort.Val) (Of unary.Vi (Number (pos 0)))) ∷ []); locals = []; items = ((Data (Number (pos 64)) (Var 0 sort.Val) (Of2 binary.Cons (Of unary.Vi (Number (pos 4))) Nil)) ∷ []) }) }) (record { temps = (name_p ∷ name_t ∷ []); body = (c.Then (c.Malloc 1 1) (c.Then (c.Return (Some (c.Temp 1))) c.End)) }) (s.Then 1 (s.Malloc name_m ([]) ([])) (s.WithBlock (s.Then 2 (s.Return ([]) ([]) ([])) s.NoBlock s.End) (s.WithBlock (s.Then 3 (s.Return ([]) ([]) ([])) s.NoBlock s.End) s.NoBlock)) s.End) ≡ (RefusedAt 2 9 1)
unfolding computing
conditions_303 = refl

conditions_304 : body_verdict (record { predicates = ([]); specs = ((record { is_void = false; name = name_f; params = (name_p ∷ []); vars = ((name_v, sort.Val) ∷ []); pre = (record { opened = []; facts = ([]); locals = ((name_p, (Var 0 sort.Val)) ∷ []); items = ((Data (Number (pos 64)) (Var 0 sort.Val) (Of2 binary.Cons (Of unary.Vi (Number (pos 4))) Nil)) ∷ []) }); post = (record { opened = []; facts = ([]); locals = []; items = ((Data (Number (pos 64)) (Var 0 sort.Val) (Of2 binary.Cons (Of unary.Vi (Number (pos 4))) Nil)) ∷ []) }) }) ∷ []) }) (record { is_void = false; name = name_f; params = (name_p ∷ []); vars = ((name_v, sort.Val) ∷ []); pre = (record { opened = []; facts = ([]); locals = ((name_p, (Var 0 sort.Val)) ∷ []); items = ((Data (Number (pos 64)) (Var 0 sort.Val) (Of2 binary.Cons (Of unary.Vi (Number (pos 4))) Nil)) ∷ []) }); post = (record { opened = []; facts = ([]); locals = []; items = ((Data (Number (pos 64)) (Var 0 sort.Val) (Of2 binary.Cons (Of unary.Vi (Number (pos 4))) Nil)) ∷ []) }) }) (record { temps = (name_p ∷ name_t ∷ []); body = (c.Then (c.Malloc 1 1) (c.Then (c.Return (Some (c.Temp 1))) c.End)) }) (s.Then 1 (s.Malloc name_v ([]) ([])) (s.WithBlock (s.Then 2 (s.Return ([]) ([]) ([])) s.NoBlock s.End) (s.WithBlock (s.Then 3 (s.Return ([]) ([]) ([])) s.NoBlock s.End) s.NoBlock)) s.End) ≡ (RefusedAt 1 14 6)
unfolding computing
conditions_304 = refl

conditions_305 : body_verdict (record { predicates = ([]); specs = ((record { is_void = false; name = name_f; params = (name_p ∷ []); vars = ((name_v, sort.Val) ∷ []); pre = (record { opened = []; facts = ([]); locals = ((name_p, (Var 0 sort.Val)) ∷ []); items = ((Data (Number (pos 64)) (Var 0 sort.Val) (Of2 binary.Cons (Of unary.Vi (Number (pos 4))) Nil)) ∷ []) }); post = (record { opened = (sort.Val ∷ []); facts = ([]); locals = []; items = ((Data (Number (pos 64)) (Var 0 sort.Val) (Of2 binary.Cons (Of unary.Vi (Number (pos 4))) Nil)) ∷ []) }) }) ∷ []) }) (record { is_void = false; name = name_f; params = (name_p ∷ []); vars = ((name_v, sort.Val) ∷ []); pre = (record { opened = []; facts = ([]); locals = ((name_p, (Var 0 sort.Val)) ∷ []); items = ((Data (Number (pos 64)) (Var 0 sort.Val) (Of2 binary.Cons (Of unary.Vi (Number (pos 4))) Nil)) ∷ []) }); post = (record { opened = (sort.Val ∷ []); facts = ([]); locals = []; items = ((Data (Number (pos 64)) (Var 0 sort.Val) (Of2 binary.Cons (Of unary.Vi (Number (pos 4))) Nil)) ∷ []) }) }) (record { temps = (name_p ∷ name_t ∷ []); body = (c.Then (c.Malloc 1 1) (c.Then (c.Return (Some (c.Temp 1))) c.End)) }) (s.Then 1 (s.Malloc name_v ([]) ([])) (s.WithBlock (s.Then 2 (s.Return ([]) ([]) ([])) s.NoBlock s.End) (s.WithBlock (s.Then 3 (s.Return ([]) ([]) ([])) s.NoBlock s.End) s.NoBlock)) s.End) ≡ (RefusedAt 1 14 6)
unfolding computing
conditions_305 = refl

conditions_306 : body_verdict (record { predicates = ([]); specs = ((record { is_void = false; name = name_f; params = (name_p ∷ []); vars = ((name_v, sort.Val) ∷ []); pre = (record { opened = []; facts = ([]); locals = ((name_p, (Var 0 sort.Val)) ∷ []); items = ((Data (Number (pos 64)) (Var 0 sort.Val) (Of2 binary.Cons (Of unary.Vi (Number (pos 4))) Nil)) ∷ []) }); post = (record { opened = []; facts = ((Rel relation.Eq (Var 1 sort.Val) (Of unary.Vi (Number (pos 0)))) ∷ []); locals = []; items = ((Data (Number (pos 64)) (Var 0 sort.Val) (Of2 binary.Cons (Of unary.Vi (Number (pos 4))) Nil)) ∷ []) }) }) ∷ []) }) (record { is_void = false; name = name_f; params = (name_p ∷ []); vars = ((name_v, sort.Val) ∷ []); pre = (record { opened = []; facts = ([]); locals = ((name_p, (Var 0 sort.Val)) ∷ []); items = ((Data (Number (pos 64)) (Var 0 sort.Val) (Of2 binary.Cons (Of unary.Vi (Number (pos 4))) Nil)) ∷ []) }); post = (record { opened = []; facts = ((Rel relation.Eq (Var 1 sort.Val) (Of unary.Vi (Number (pos 0)))) ∷ []); locals = []; items = ((Data (Number (pos 64)) (Var 0 sort.Val) (Of2 binary.Cons (Of unary.Vi (Number (pos 4))) Nil)) ∷ []) }) }) (record { temps = (name_p ∷ name_t ∷ []); body = (c.Then (c.Malloc 1 1) (c.Then (c.Return (Some (c.Temp 1))) c.End)) }) (s.Then 1 (s.Malloc name_v ([]) ([])) (s.WithBlock (s.Then 2 (s.Return ([]) ([]) ([])) s.NoBlock s.End) (s.WithBlock (s.Then 3 (s.Return ([]) ([]) ([])) s.NoBlock s.End) s.NoBlock)) s.End) ≡ (RefusedAt 1 14 6)
unfolding computing
conditions_306 = refl

conditions_307 : body_verdict (record { predicates = ([]); specs = ((record { is_void = false; name = name_f; params = (name_p ∷ []); vars = ((name_v, sort.Val) ∷ []); pre = (record { opened = []; facts = ([]); locals = ((name_p, (Var 0 sort.Val)) ∷ []); items = ((Data (Number (pos 64)) (Var 0 sort.Val) (Of2 binary.Cons (Of unary.Vi (Number (pos 4))) Nil)) ∷ []) }); post = (record { opened = (sort.Val ∷ []); facts = ((Rel relation.Eq (Var 1 sort.Val) (Of unary.Vi (Number (pos 0)))) ∷ []); locals = []; items = ((Data (Number (pos 64)) (Var 0 sort.Val) (Of2 binary.Cons (Of unary.Vi (Number (pos 4))) Nil)) ∷ []) }) }) ∷ []) }) (record { is_void = false; name = name_f; params = (name_p ∷ []); vars = ((name_v, sort.Val) ∷ []); pre = (record { opened = []; facts = ([]); locals = ((name_p, (Var 0 sort.Val)) ∷ []); items = ((Data (Number (pos 64)) (Var 0 sort.Val) (Of2 binary.Cons (Of unary.Vi (Number (pos 4))) Nil)) ∷ []) }); post = (record { opened = (sort.Val ∷ []); facts = ((Rel relation.Eq (Var 1 sort.Val) (Of unary.Vi (Number (pos 0)))) ∷ []); locals = []; items = ((Data (Number (pos 64)) (Var 0 sort.Val) (Of2 binary.Cons (Of unary.Vi (Number (pos 4))) Nil)) ∷ []) }) }) (record { temps = (name_p ∷ name_t ∷ []); body = (c.Then (c.Malloc 1 1) (c.Then (c.Return (Some (c.Temp 1))) c.End)) }) (s.Then 1 (s.Malloc name_v ([]) ([])) (s.WithBlock (s.Then 2 (s.Return ([]) ([]) ([])) s.NoBlock s.End) (s.WithBlock (s.Then 3 (s.Return ([]) ([]) ([])) s.NoBlock s.End) s.NoBlock)) s.End) ≡ (RefusedAt 1 14 6)
unfolding computing
conditions_307 = refl

conditions_308 : body_verdict (record { predicates = ([]); specs = ((record { is_void = false; name = name_f; params = (name_p ∷ []); vars = ((name_v, sort.Val) ∷ []); pre = (record { opened = []; facts = ([]); locals = ((name_p, (Var 0 sort.Val)) ∷ []); items = ((Data (Number (pos 64)) (Var 0 sort.Val) (Of2 binary.Cons (Of unary.Vi (Number (pos 4))) Nil)) ∷ []) }); post = (record { opened = []; facts = ([]); locals = []; items = ((Data (Number (pos 64)) (Var 0 sort.Val) (Of2 binary.Cons (Of unary.Vi (Number (pos 4))) Nil)) ∷ []) }) }) ∷ []) }) (record { is_void = false; name = name_f; params = (name_p ∷ []); vars = ((name_v, sort.Val) ∷ []); pre = (record { opened = []; facts = ([]); locals = ((name_p, (Var 0 sort.Val)) ∷ []); items = ((Data (Number (pos 64)) (Var 0 sort.Val) (Of2 binary.Cons (Of unary.Vi (Number (pos 4))) Nil)) ∷ []) }); post = (record { opened = []; facts = ([]); locals = []; items = ((Data (Number (pos 64)) (Var 0 sort.Val) (Of2 binary.Cons (Of unary.Vi (Number (pos 4))) Nil)) ∷ []) }) }) (record { temps = (name_p ∷ name_t ∷ []); body = (c.Then (c.Malloc 1 1) (c.Then (c.Return (Some (c.Temp 1))) c.End)) }) (s.Then 1 (s.Malloc name_m (name_k ∷ []) ([])) (s.WithBlock (s.Then 2 (s.Return ([]) ([]) ([])) s.NoBlock s.End) (s.WithBlock (s.Then 3 (s.Return ([]) ([]) ([])) s.NoBlock s.End) s.NoBlock)) s.End) ≡ (RefusedAt 1 14 6)
unfolding computing
conditions_308 = refl

conditions_309 : body_verdict (record { predicates = ([]); specs = ((record { is_void = false; name = name_f; params = (name_p ∷ []); vars = ((name_v, sort.Val) ∷ []); pre = (record { opened = []; facts = ([]); locals = ((name_p, (Var 0 sort.Val)) ∷ []); items = ((Data (Number (pos 64)) (Var 0 sort.Val) (Of2 binary.Cons (Of unary.Vi (Number (pos 4))) Nil)) ∷ []) }); post = (record { opened = (sort.Val ∷ []); facts = ([]); locals = []; items = ((Data (Number (pos 64)) (Var 0 sort.Val) (Of2 binary.Cons (Of unary.Vi (Number (pos 4))) Nil)) ∷ []) }) }) ∷ []) }) (record { is_void = false; name = name_f; params = (name_p ∷ []); vars = ((name_v, sort.Val) ∷ []); pre = (record { opened = []; facts = ([]); locals = ((name_p, (Var 0 sort.Val)) ∷ []); items = ((Data (Number (pos 64)) (Var 0 sort.Val) (Of2 binary.Cons (Of unary.Vi (Number (pos 4))) Nil)) ∷ []) }); post = (record { opened = (sort.Val ∷ []); facts = ([]); locals = []; items = ((Data (Number (pos 64)) (Var 0 sort.Val) (Of2 binary.Cons (Of unary.Vi (Number (pos 4))) Nil)) ∷ []) }) }) (record { temps = (name_p ∷ name_t ∷ []); body = (c.Then (c.Malloc 1 1) (c.Then (c.Return (Some (c.Temp 1))) c.End)) }) (s.Then 1 (s.Malloc name_m (name_k ∷ []) ([])) (s.WithBlock (s.Then 2 (s.Return ([]) ([]) ([])) s.NoBlock s.End) (s.WithBlock (s.Then 3 (s.Return ([]) ([]) ([])) s.NoBlock s.End) s.NoBlock)) s.End) ≡ (RefusedAt 1 14 6)
unfolding computing
conditions_309 = refl

conditions_310 : body_verdict (record { predicates = ([]); specs = ((record { is_void = false; name = name_f; params = (name_p ∷ []); vars = ((name_v, sort.Val) ∷ []); pre = (record { opened = []; facts = ([]); locals = ((name_p, (Var 0 sort.Val)) ∷ []); items = ((Data (Number (pos 64)) (Var 0 sort.Val) (Of2 binary.Cons (Of unary.Vi (Number (pos 4))) Nil)) ∷ []) }); post = (record { opened = []; facts = ((Rel relation.Eq (Var 1 sort.Val) (Of unary.Vi (Number (pos 0)))) ∷ []); locals = []; items = ((Data (Number (pos 64)) (Var 0 sort.Val) (Of2 binary.Cons (Of unary.Vi (Number (pos 4))) Nil)) ∷ []) }) }) ∷ []) }) (record { is_void = false; name = name_f; params = (name_p ∷ []); vars = ((name_v, sort.Val) ∷ []); pre = (record { opened = []; facts = ([]); locals = ((name_p, (Var 0 sort.Val)) ∷ []); items = ((Data (Number (pos 64)) (Var 0 sort.Val) (Of2 binary.Cons (Of unary.Vi (Number (pos 4))) Nil)) ∷ []) }); post = (record { opened = []; facts = ((Rel relation.Eq (Var 1 sort.Val) (Of unary.Vi (Number (pos 0)))) ∷ []); locals = []; items = ((Data (Number (pos 64)) (Var 0 sort.Val) (Of2 binary.Cons (Of unary.Vi (Number (pos 4))) Nil)) ∷ []) }) }) (record { temps = (name_p ∷ name_t ∷ []); body = (c.Then (c.Malloc 1 1) (c.Then (c.Return (Some (c.Temp 1))) c.End)) }) (s.Then 1 (s.Malloc name_m (name_k ∷ []) ([])) (s.WithBlock (s.Then 2 (s.Return ([]) ([]) ([])) s.NoBlock s.End) (s.WithBlock (s.Then 3 (s.Return ([]) ([]) ([])) s.NoBlock s.End) s.NoBlock)) s.End) ≡ (RefusedAt 1 14 6)
unfolding computing
conditions_310 = refl

conditions_311 : body_verdict (record { predicates = ([]); specs = ((record { is_void = false; name = name_f; params = (name_p ∷ []); vars = ((name_v, sort.Val) ∷ []); pre = (record { opened = []; facts = ([]); locals = ((name_p, (Var 0 sort.Val)) ∷ []); items = ((Data (Number (pos 64)) (Var 0 sort.Val) (Of2 binary.Cons (Of unary.Vi (Number (pos 4))) Nil)) ∷ []) }); post = (record { opened = (sort.Val ∷ []); facts = ((Rel relation.Eq (Var 1 sort.Val) (Of unary.Vi (Number (pos 0)))) ∷ []); locals = []; items = ((Data (Number (pos 64)) (Var 0 sort.Val) (Of2 binary.Cons (Of unary.Vi (Number (pos 4))) Nil)) ∷ []) }) }) ∷ []) }) (record { is_void = false; name = name_f; params = (name_p ∷ []); vars = ((name_v, sort.Val) ∷ []); pre = (record { opened = []; facts = ([]); locals = ((name_p, (Var 0 sort.Val)) ∷ []); items = ((Data (Number (pos 64)) (Var 0 sort.Val) (Of2 binary.Cons (Of unary.Vi (Number (pos 4))) Nil)) ∷ []) }); post = (record { opened = (sort.Val ∷ []); facts = ((Rel relation.Eq (Var 1 sort.Val) (Of unary.Vi (Number (pos 0)))) ∷ []); locals = []; items = ((Data (Number (pos 64)) (Var 0 sort.Val) (Of2 binary.Cons (Of unary.Vi (Number (pos 4))) Nil)) ∷ []) }) }) (record { temps = (name_p ∷ name_t ∷ []); body = (c.Then (c.Malloc 1 1) (c.Then (c.Return (Some (c.Temp 1))) c.End)) }) (s.Then 1 (s.Malloc name_m (name_k ∷ []) ([])) (s.WithBlock (s.Then 2 (s.Return ([]) ([]) ([])) s.NoBlock s.End) (s.WithBlock (s.Then 3 (s.Return ([]) ([]) ([])) s.NoBlock s.End) s.NoBlock)) s.End) ≡ (RefusedAt 1 14 6)
unfolding computing
conditions_311 = refl

conditions_312 : body_verdict (record { predicates = ([]); specs = ((record { is_void = false; name = name_f; params = (name_p ∷ []); vars = ((name_v, sort.Val) ∷ []); pre = (record { opened = []; facts = ([]); locals = ((name_p, (Var 0 sort.Val)) ∷ []); items = ((Data (Number (pos 64)) (Var 0 sort.Val) (Of2 binary.Cons (Of unary.Vi (Number (pos 4))) Nil)) ∷ []) }); post = (record { opened = []; facts = ([]); locals = []; items = ((Data (Number (pos 64)) (Var 0 sort.Val) (Of2 binary.Cons (Of unary.Vi (Number (pos 4))) Nil)) ∷ []) }) }) ∷ []) }) (record { is_void = false; name = name_f; params = (name_p ∷ []); vars = ((name_v, sort.Val) ∷ []); pre = (record { opened = []; facts = ([]); locals = ((name_p, (Var 0 sort.Val)) ∷ []); items = ((Data (Number (pos 64)) (Var 0 sort.Val) (Of2 binary.Cons (Of unary.Vi (Number (pos 4))) Nil)) ∷ []) }); post = (record { opened = []; facts = ([]); locals = []; items = ((Data (Number (pos 64)) (Var 0 sort.Val) (Of2 binary.Cons (Of unary.Vi (Number (pos 4))) Nil)) ∷ []) }) }) (record { temps = (name_p ∷ name_t ∷ []); body = (c.Then (c.Malloc 1 1) (c.Then (c.Return (Some (c.Temp 1))) c.End)) }) (s.Then 1 (s.Malloc name_m ([]) (name_k ∷ [])) (s.WithBlock (s.Then 2 (s.Return ([]) ([]) ([])) s.NoBlock s.End) (s.WithBlock (s.Then 3 (s.Return ([]) ([]) ([])) s.NoBlock s.End) s.NoBlock)) s.End) ≡ (RefusedAt 1 14 6)
unfolding computing
conditions_312 = refl

conditions_313 : body_verdict (record { predicates = ([]); specs = ((record { is_void = false; name = name_f; params = (name_p ∷ []); vars = ((name_v, sort.Val) ∷ []); pre = (record { opened = []; facts = ([]); locals = ((name_p, (Var 0 sort.Val)) ∷ []); items = ((Data (Number (pos 64)) (Var 0 sort.Val) (Of2 binary.Cons (Of unary.Vi (Number (pos 4))) Nil)) ∷ []) }); post = (record { opened = (sort.Val ∷ []); facts = ([]); locals = []; items = ((Data (Number (pos 64)) (Var 0 sort.Val) (Of2 binary.Cons (Of unary.Vi (Number (pos 4))) Nil)) ∷ []) }) }) ∷ []) }) (record { is_void = false; name = name_f; params = (name_p ∷ []); vars = ((name_v, sort.Val) ∷ []); pre = (record { opened = []; facts = ([]); locals = ((name_p, (Var 0 sort.Val)) ∷ []); items = ((Data (Number (pos 64)) (Var 0 sort.Val) (Of2 binary.Cons (Of unary.Vi (Number (pos 4))) Nil)) ∷ []) }); post = (record { opened = (sort.Val ∷ []); facts = ([]); locals = []; items = ((Data (Number (pos 64)) (Var 0 sort.Val) (Of2 binary.Cons (Of unary.Vi (Number (pos 4))) Nil)) ∷ []) }) }) (record { temps = (name_p ∷ name_t ∷ []); body = (c.Then (c.Malloc 1 1) (c.Then (c.Return (Some (c.Temp 1))) c.End)) }) (s.Then 1 (s.Malloc name_m ([]) (name_k ∷ [])) (s.WithBlock (s.Then 2 (s.Return ([]) ([]) ([])) s.NoBlock s.End) (s.WithBlock (s.Then 3 (s.Return ([]) ([]) ([])) s.NoBlock s.End) s.NoBlock)) s.End) ≡ (RefusedAt 1 14 6)
unfolding computing
conditions_313 = refl

conditions_314 : body_verdict (record { predicates = ([]); specs = ((record { is_void = false; name = name_f; params = (name_p ∷ []); vars = ((name_v, sort.Val) ∷ []); pre = (record { opened = []; facts = ([]); locals = ((name_p, (Var 0 sort.Val)) ∷ []); items = ((Data (Number (pos 64)) (Var 0 sort.Val) (Of2 binary.Cons (Of unary.Vi (Number (pos 4))) Nil)) ∷ []) }); post = (record { opened = []; facts = ((Rel relation.Eq (Var 1 sort.Val) (Of unary.Vi (Number (pos 0)))) ∷ []); locals = []; items = ((Data (Number (pos 64)) (Var 0 sort.Val) (Of2 binary.Cons (Of unary.Vi (Number (pos 4))) Nil)) ∷ []) }) }) ∷ []) }) (record { is_void = false; name = name_f; params = (name_p ∷ []); vars = ((name_v, sort.Val) ∷ []); pre = (record { opened = []; facts = ([]); locals = ((name_p, (Var 0 sort.Val)) ∷ []); items = ((Data (Number (pos 64)) (Var 0 sort.Val) (Of2 binary.Cons (Of unary.Vi (Number (pos 4))) Nil)) ∷ []) }); post = (record { opened = []; facts = ((Rel relation.Eq (Var 1 sort.Val) (Of unary.Vi (Number (pos 0)))) ∷ []); locals = []; items = ((Data (Number (pos 64)) (Var 0 sort.Val) (Of2 binary.Cons (Of unary.Vi (Number (pos 4))) Nil)) ∷ []) }) }) (record { temps = (name_p ∷ name_t ∷ []); body = (c.Then (c.Malloc 1 1) (c.Then (c.Return (Some (c.Temp 1))) c.End)) }) (s.Then 1 (s.Malloc name_m ([]) (name_k ∷ [])) (s.WithBlock (s.Then 2 (s.Return ([]) ([]) ([])) s.NoBlock s.End) (s.WithBlock (s.Then 3 (s.Return ([]) ([]) ([])) s.NoBlock s.End) s.NoBlock)) s.End) ≡ (RefusedAt 1 14 6)
unfolding computing
conditions_314 = refl

conditions_315 : body_verdict (record { predicates = ([]); specs = ((record { is_void = false; name = name_f; params = (name_p ∷ []); vars = ((name_v, sort.Val) ∷ []); pre = (record { opened = []; facts = ([]); locals = ((name_p, (Var 0 sort.Val)) ∷ []); items = ((Data (Number (pos 64)) (Var 0 sort.Val) (Of2 binary.Cons (Of unary.Vi (Number (pos 4))) Nil)) ∷ []) }); post = (record { opened = (sort.Val ∷ []); facts = ((Rel relation.Eq (Var 1 sort.Val) (Of unary.Vi (Number (pos 0)))) ∷ []); locals = []; items = ((Data (Number (pos 64)) (Var 0 sort.Val) (Of2 binary.Cons (Of unary.Vi (Number (pos 4))) Nil)) ∷ []) }) }) ∷ []) }) (record { is_void = false; name = name_f; params = (name_p ∷ []); vars = ((name_v, sort.Val) ∷ []); pre = (record { opened = []; facts = ([]); locals = ((name_p, (Var 0 sort.Val)) ∷ []); items = ((Data (Number (pos 64)) (Var 0 sort.Val) (Of2 binary.Cons (Of unary.Vi (Number (pos 4))) Nil)) ∷ []) }); post = (record { opened = (sort.Val ∷ []); facts = ((Rel relation.Eq (Var 1 sort.Val) (Of unary.Vi (Number (pos 0)))) ∷ []); locals = []; items = ((Data (Number (pos 64)) (Var 0 sort.Val) (Of2 binary.Cons (Of unary.Vi (Number (pos 4))) Nil)) ∷ []) }) }) (record { temps = (name_p ∷ name_t ∷ []); body = (c.Then (c.Malloc 1 1) (c.Then (c.Return (Some (c.Temp 1))) c.End)) }) (s.Then 1 (s.Malloc name_m ([]) (name_k ∷ [])) (s.WithBlock (s.Then 2 (s.Return ([]) ([]) ([])) s.NoBlock s.End) (s.WithBlock (s.Then 3 (s.Return ([]) ([]) ([])) s.NoBlock s.End) s.NoBlock)) s.End) ≡ (RefusedAt 1 14 6)
unfolding computing
conditions_315 = refl

conditions_316 : body_verdict (record { predicates = ([]); specs = ((record { is_void = false; name = name_f; params = (name_p ∷ []); vars = ((name_v, sort.Val) ∷ []); pre = (record { opened = []; facts = ([]); locals = ((name_p, (Var 0 sort.Val)) ∷ []); items = ((Data (Number (pos 64)) (Var 0 sort.Val) (Of2 binary.Cons (Of unary.Vi (Number (pos 4))) Nil)) ∷ []) }); post = (record { opened = []; facts = ([]); locals = []; items = ((Data (Number (pos 64)) (Var 0 sort.Val) (Of2 binary.Cons (Of unary.Vi (Number (pos 4))) Nil)) ∷ []) }) }) ∷ []) }) (record { is_void = false; name = name_f; params = (name_p ∷ []); vars = ((name_v, sort.Val) ∷ []); pre = (record { opened = []; facts = ([]); locals = ((name_p, (Var 0 sort.Val)) ∷ []); items = ((Data (Number (pos 64)) (Var 0 sort.Val) (Of2 binary.Cons (Of unary.Vi (Number (pos 4))) Nil)) ∷ []) }); post = (record { opened = []; facts = ([]); locals = []; items = ((Data (Number (pos 64)) (Var 0 sort.Val) (Of2 binary.Cons (Of unary.Vi (Number (pos 4))) Nil)) ∷ []) }) }) (record { temps = (name_p ∷ name_t ∷ []); body = (c.Then (c.Malloc 1 1) (c.Then (c.Return (Some (c.Temp 1))) c.End)) }) (s.Then 1 (s.Malloc name_m ([]) ([])) (s.WithBlock (s.Then 2 (s.Return ([]) ([]) ([])) s.NoBlock s.End) (s.WithBlock (s.Then 3 (s.Have (IsPtr (Named name_m)) ([])) s.NoBlock (s.Then 4 (s.Free 1 2 ([])) s.NoBlock (s.Then 5 (s.Return ([]) ([]) ([])) s.NoBlock s.End))) s.NoBlock)) s.End) ≡ (RefusedAt 4 15 1)
unfolding computing
conditions_316 = refl

conditions_317 : body_verdict (record { predicates = ([]); specs = ((record { is_void = false; name = name_f; params = (name_p ∷ []); vars = ((name_v, sort.Val) ∷ []); pre = (record { opened = []; facts = ([]); locals = ((name_p, (Var 0 sort.Val)) ∷ []); items = ((Data (Number (pos 64)) (Var 0 sort.Val) (Of2 binary.Cons (Of unary.Vi (Number (pos 4))) Nil)) ∷ []) }); post = (record { opened = (sort.Val ∷ []); facts = ([]); locals = []; items = ((Data (Number (pos 64)) (Var 0 sort.Val) (Of2 binary.Cons (Of unary.Vi (Number (pos 4))) Nil)) ∷ []) }) }) ∷ []) }) (record { is_void = false; name = name_f; params = (name_p ∷ []); vars = ((name_v, sort.Val) ∷ []); pre = (record { opened = []; facts = ([]); locals = ((name_p, (Var 0 sort.Val)) ∷ []); items = ((Data (Number (pos 64)) (Var 0 sort.Val) (Of2 binary.Cons (Of unary.Vi (Number (pos 4))) Nil)) ∷ []) }); post = (record { opened = (sort.Val ∷ []); facts = ([]); locals = []; items = ((Data (Number (pos 64)) (Var 0 sort.Val) (Of2 binary.Cons (Of unary.Vi (Number (pos 4))) Nil)) ∷ []) }) }) (record { temps = (name_p ∷ name_t ∷ []); body = (c.Then (c.Malloc 1 1) (c.Then (c.Return (Some (c.Temp 1))) c.End)) }) (s.Then 1 (s.Malloc name_m ([]) ([])) (s.WithBlock (s.Then 2 (s.Return ([]) ([]) ([])) s.NoBlock s.End) (s.WithBlock (s.Then 3 (s.Have (IsPtr (Named name_m)) ([])) s.NoBlock (s.Then 4 (s.Free 1 2 ([])) s.NoBlock (s.Then 5 (s.Return ([]) ([]) ([])) s.NoBlock s.End))) s.NoBlock)) s.End) ≡ (RefusedAt 2 9 1)
unfolding computing
conditions_317 = refl

conditions_318 : body_verdict (record { predicates = ([]); specs = ((record { is_void = false; name = name_f; params = (name_p ∷ []); vars = ((name_v, sort.Val) ∷ []); pre = (record { opened = []; facts = ([]); locals = ((name_p, (Var 0 sort.Val)) ∷ []); items = ((Data (Number (pos 64)) (Var 0 sort.Val) (Of2 binary.Cons (Of unary.Vi (Number (pos 4))) Nil)) ∷ []) }); post = (record { opened = []; facts = ((Rel relation.Eq (Var 1 sort.Val) (Of unary.Vi (Number (pos 0)))) ∷ []); locals = []; items = ((Data (Number (pos 64)) (Var 0 sort.Val) (Of2 binary.Cons (Of unary.Vi (Number (pos 4))) Nil)) ∷ []) }) }) ∷ []) }) (record { is_void = false; name = name_f; params = (name_p ∷ []); vars = ((name_v, sort.Val) ∷ []); pre = (record { opened = []; facts = ([]); locals = ((name_p, (Var 0 sort.Val)) ∷ []); items = ((Data (Number (pos 64)) (Var 0 sort.Val) (Of2 binary.Cons (Of unary.Vi (Number (pos 4))) Nil)) ∷ []) }); post = (record { opened = []; facts = ((Rel relation.Eq (Var 1 sort.Val) (Of unary.Vi (Number (pos 0)))) ∷ []); locals = []; items = ((Data (Number (pos 64)) (Var 0 sort.Val) (Of2 binary.Cons (Of unary.Vi (Number (pos 4))) Nil)) ∷ []) }) }) (record { temps = (name_p ∷ name_t ∷ []); body = (c.Then (c.Malloc 1 1) (c.Then (c.Return (Some (c.Temp 1))) c.End)) }) (s.Then 1 (s.Malloc name_m ([]) ([])) (s.WithBlock (s.Then 2 (s.Return ([]) ([]) ([])) s.NoBlock s.End) (s.WithBlock (s.Then 3 (s.Have (IsPtr (Named name_m)) ([])) s.NoBlock (s.Then 4 (s.Free 1 2 ([])) s.NoBlock (s.Then 5 (s.Return ([]) ([]) ([])) s.NoBlock s.End))) s.NoBlock)) s.End) ≡ (RefusedAt 4 15 1)
unfolding computing
conditions_318 = refl

conditions_319 : body_verdict (record { predicates = ([]); specs = ((record { is_void = false; name = name_f; params = (name_p ∷ []); vars = ((name_v, sort.Val) ∷ []); pre = (record { opened = []; facts = ([]); locals = ((name_p, (Var 0 sort.Val)) ∷ []); items = ((Data (Number (pos 64)) (Var 0 sort.Val) (Of2 binary.Cons (Of unary.Vi (Number (pos 4))) Nil)) ∷ []) }); post = (record { opened = (sort.Val ∷ []); facts = ((Rel relation.Eq (Var 1 sort.Val) (Of unary.Vi (Number (pos 0)))) ∷ []); locals = []; items = ((Data (Number (pos 64)) (Var 0 sort.Val) (Of2 binary.Cons (Of unary.Vi (Number (pos 4))) Nil)) ∷ []) }) }) ∷ []) }) (record { is_void = false; name = name_f; params = (name_p ∷ []); vars = ((name_v, sort.Val) ∷ []); pre = (record { opened = []; facts = ([]); locals = ((name_p, (Var 0 sort.Val)) ∷ []); items = ((Data (Number (pos 64)) (Var 0 sort.Val) (Of2 binary.Cons (Of unary.Vi (Number (pos 4))) Nil)) ∷ []) }); post = (record { opened = (sort.Val ∷ []); facts = ((Rel relation.Eq (Var 1 sort.Val) (Of unary.Vi (Number (pos 0)))) ∷ []); locals = []; items = ((Data (Number (pos 64)) (Var 0 sort.Val) (Of2 binary.Cons (Of unary.Vi (Number (pos 4))) Nil)) ∷ []) }) }) (record { temps = (name_p ∷ name_t ∷ []); body = (c.Then (c.Malloc 1 1) (c.Then (c.Return (Some (c.Temp 1))) c.End)) }) (s.Then 1 (s.Malloc name_m ([]) ([])) (s.WithBlock (s.Then 2 (s.Return ([]) ([]) ([])) s.NoBlock s.End) (s.WithBlock (s.Then 3 (s.Have (IsPtr (Named name_m)) ([])) s.NoBlock (s.Then 4 (s.Free 1 2 ([])) s.NoBlock (s.Then 5 (s.Return ([]) ([]) ([])) s.NoBlock s.End))) s.NoBlock)) s.End) ≡ (RefusedAt 2 9 1)
unfolding computing
conditions_319 = refl

conditions_320 : body_verdict (record { predicates = ([]); specs = ((record { is_void = false; name = name_f; params = (name_p ∷ []); vars = ((name_v, sort.Val) ∷ []); pre = (record { opened = []; facts = ([]); locals = ((name_p, (Var 0 sort.Val)) ∷ []); items = ((Data (Number (pos 64)) (Var 0 sort.Val) (Of2 binary.Cons (Of unary.Vi (Number (pos 4))) Nil)) ∷ []) }); post = (record { opened = []; facts = ([]); locals = []; items = ((Data (Number (pos 64)) (Var 0 sort.Val) (Of2 binary.Cons (Of unary.Vi (Number (pos 4))) Nil)) ∷ []) }) }) ∷ []) }) (record { is_void = false; name = name_f; params = (name_p ∷ []); vars = ((name_v, sort.Val) ∷ []); pre = (record { opened = []; facts = ([]); locals = ((name_p, (Var 0 sort.Val)) ∷ []); items = ((Data (Number (pos 64)) (Var 0 sort.Val) (Of2 binary.Cons (Of unary.Vi (Number (pos 4))) Nil)) ∷ []) }); post = (record { opened = []; facts = ([]); locals = []; items = ((Data (Number (pos 64)) (Var 0 sort.Val) (Of2 binary.Cons (Of unary.Vi (Number (pos 4))) Nil)) ∷ []) }) }) (record { temps = (name_p ∷ name_t ∷ []); body = (c.Then (c.Malloc 1 1) (c.Then (c.Return (Some (c.Temp 1))) c.End)) }) (s.Then 1 (s.Malloc name_m ([]) ([])) (s.WithBlock (s.Then 2 (s.Free 0 0 ([])) s.NoBlock s.End) (s.WithBlock (s.Then 3 (s.Return ([]) ([]) ([])) s.NoBlock s.End) s.NoBlock)) s.End) ≡ (RefusedAt 2 15 1)
unfolding computing
conditions_320 = refl

conditions_321 : body_verdict (record { predicates = ([]); specs = ((record { is_void = false; name = name_f; params = (name_p ∷ []); vars = ((name_v, sort.Val) ∷ []); pre = (record { opened = []; facts = ([]); locals = ((name_p, (Var 0 sort.Val)) ∷ []); items = ((Data (Number (pos 64)) (Var 0 sort.Val) (Of2 binary.Cons (Of unary.Vi (Number (pos 4))) Nil)) ∷ []) }); post = (record { opened = (sort.Val ∷ []); facts = ([]); locals = []; items = ((Data (Number (pos 64)) (Var 0 sort.Val) (Of2 binary.Cons (Of unary.Vi (Number (pos 4))) Nil)) ∷ []) }) }) ∷ []) }) (record { is_void = false; name = name_f; params = (name_p ∷ []); vars = ((name_v, sort.Val) ∷ []); pre = (record { opened = []; facts = ([]); locals = ((name_p, (Var 0 sort.Val)) ∷ []); items = ((Data (Number (pos 64)) (Var 0 sort.Val) (Of2 binary.Cons (Of unary.Vi (Number (pos 4))) Nil)) ∷ []) }); post = (record { opened = (sort.Val ∷ []); facts = ([]); locals = []; items = ((Data (Number (pos 64)) (Var 0 sort.Val) (Of2 binary.Cons (Of unary.Vi (Number (pos 4))) Nil)) ∷ []) }) }) (record { temps = (name_p ∷ name_t ∷ []); body = (c.Then (c.Malloc 1 1) (c.Then (c.Return (Some (c.Temp 1))) c.End)) }) (s.Then 1 (s.Malloc name_m ([]) ([])) (s.WithBlock (s.Then 2 (s.Free 0 0 ([])) s.NoBlock s.End) (s.WithBlock (s.Then 3 (s.Return ([]) ([]) ([])) s.NoBlock s.End) s.NoBlock)) s.End) ≡ (RefusedAt 2 15 1)
unfolding computing
conditions_321 = refl

conditions_322 : body_verdict (record { predicates = ([]); specs = ((record { is_void = false; name = name_f; params = (name_p ∷ []); vars = ((name_v, sort.Val) ∷ []); pre = (record { opened = []; facts = ([]); locals = ((name_p, (Var 0 sort.Val)) ∷ []); items = ((Data (Number (pos 64)) (Var 0 sort.Val) (Of2 binary.Cons (Of unary.Vi (Number (pos 4))) Nil)) ∷ []) }); post = (record { opened = []; facts = ((Rel relation.Eq (Var 1 sort.Val) (Of unary.Vi (Number (pos 0)))) ∷ []); locals = []; items = ((Data (Number (pos 64)) (Var 0 sort.Val) (Of2 binary.Cons (Of unary.Vi (Number (pos 4))) Nil)) ∷ []) }) }) ∷ []) }) (record { is_void = false; name = name_f; params = (name_p ∷ []); vars = ((name_v, sort.Val) ∷ []); pre = (record { opened = []; facts = ([]); locals = ((name_p, (Var 0 sort.Val)) ∷ []); items = ((Data (Number (pos 64)) (Var 0 sort.Val) (Of2 binary.Cons (Of unary.Vi (Number (pos 4))) Nil)) ∷ []) }); post = (record { opened = []; facts = ((Rel relation.Eq (Var 1 sort.Val) (Of unary.Vi (Number (pos 0)))) ∷ []); locals = []; items = ((Data (Number (pos 64)) (Var 0 sort.Val) (Of2 binary.Cons (Of unary.Vi (Number (pos 4))) Nil)) ∷ []) }) }) (record { temps = (name_p ∷ name_t ∷ []); body = (c.Then (c.Malloc 1 1) (c.Then (c.Return (Some (c.Temp 1))) c.End)) }) (s.Then 1 (s.Malloc name_m ([]) ([])) (s.WithBlock (s.Then 2 (s.Free 0 0 ([])) s.NoBlock s.End) (s.WithBlock (s.Then 3 (s.Return ([]) ([]) ([])) s.NoBlock s.End) s.NoBlock)) s.End) ≡ (RefusedAt 2 15 1)
unfolding computing
conditions_322 = refl

conditions_323 : body_verdict (record { predicates = ([]); specs = ((record { is_void = false; name = name_f; params = (name_p ∷ []); vars = ((name_v, sort.Val) ∷ []); pre = (record { opened = []; facts = ([]); locals = ((name_p, (Var 0 sort.Val)) ∷ []); items = ((Data (Number (pos 64)) (Var 0 sort.Val) (Of2 binary.Cons (Of unary.Vi (Number (pos 4))) Nil)) ∷ []) }); post = (record { opened = (sort.Val ∷ []); facts = ((Rel relation.Eq (Var 1 sort.Val) (Of unary.Vi (Number (pos 0)))) ∷ []); locals = []; items = ((Data (Number (pos 64)) (Var 0 sort.Val) (Of2 binary.Cons (Of unary.Vi (Number (pos 4))) Nil)) ∷ []) }) }) ∷ []) }) (record { is_void = false; name = name_f; params = (name_p ∷ []); vars = ((name_v, sort.Val) ∷ []); pre = (record { opened = []; facts = ([]); locals = ((name_p, (Var 0 sort.Val)) ∷ []); items = ((Data (Number (pos 64)) (Var 0 sort.Val) (Of2 binary.Cons (Of unary.Vi (Number (pos 4))) Nil)) ∷ []) }); post = (record { opened = (sort.Val ∷ []); facts = ((Rel relation.Eq (Var 1 sort.Val) (Of unary.Vi (Number (pos 0)))) ∷ []); locals = []; items = ((Data (Number (pos 64)) (Var 0 sort.Val) (Of2 binary.Cons (Of unary.Vi (Number (pos 4))) Nil)) ∷ []) }) }) (record { temps = (name_p ∷ name_t ∷ []); body = (c.Then (c.Malloc 1 1) (c.Then (c.Return (Some (c.Temp 1))) c.End)) }) (s.Then 1 (s.Malloc name_m ([]) ([])) (s.WithBlock (s.Then 2 (s.Free 0 0 ([])) s.NoBlock s.End) (s.WithBlock (s.Then 3 (s.Return ([]) ([]) ([])) s.NoBlock s.End) s.NoBlock)) s.End) ≡ (RefusedAt 2 15 1)
unfolding computing
conditions_323 = refl

conditions_324 : body_verdict (record { predicates = ([]); specs = ((record { is_void = false; name = name_f; params = (name_p ∷ []); vars = ((name_v, sort.Val) ∷ []); pre = (record { opened = []; facts = ([]); locals = ((name_p, (Var 0 sort.Val)) ∷ []); items = ((Data (Number (pos 64)) (Var 0 sort.Val) (Of2 binary.Cons (Of unary.Vi (Number (pos 4))) Nil)) ∷ []) }); post = (record { opened = []; facts = ([]); locals = []; items = ((Data (Number (pos 64)) (Var 0 sort.Val) (Of2 binary.Cons (Of unary.Vi (Number (pos 4))) Nil)) ∷ []) }) }) ∷ []) }) (record { is_void = false; name = name_f; params = (name_p ∷ []); vars = ((name_v, sort.Val) ∷ []); pre = (record { opened = []; facts = ([]); locals = ((name_p, (Var 0 sort.Val)) ∷ []); items = ((Data (Number (pos 64)) (Var 0 sort.Val) (Of2 binary.Cons (Of unary.Vi (Number (pos 4))) Nil)) ∷ []) }); post = (record { opened = []; facts = ([]); locals = []; items = ((Data (Number (pos 64)) (Var 0 sort.Val) (Of2 binary.Cons (Of unary.Vi (Number (pos 4))) Nil)) ∷ []) }) }) (record { temps = (name_p ∷ name_t ∷ []); body = (c.Then (c.Malloc 1 1) (c.Then (c.Return (Some (c.Temp 1))) c.End)) }) (s.Then 1 (s.Malloc name_m ([]) ([])) (s.WithBlock (s.Then 2 (s.Return ([]) ([]) ([])) s.NoBlock s.End) (s.WithBlock (s.Then 3 (s.Return ((Named name_m) ∷ []) ([]) ([])) s.NoBlock s.End) s.NoBlock)) s.End) ≡ (RefusedAt 3 9 1)
unfolding computing
conditions_324 = refl

conditions_325 : body_verdict (record { predicates = ([]); specs = ((record { is_void = false; name = name_f; params = (name_p ∷ []); vars = ((name_v, sort.Val) ∷ []); pre = (record { opened = []; facts = ([]); locals = ((name_p, (Var 0 sort.Val)) ∷ []); items = ((Data (Number (pos 64)) (Var 0 sort.Val) (Of2 binary.Cons (Of unary.Vi (Number (pos 4))) Nil)) ∷ []) }); post = (record { opened = (sort.Val ∷ []); facts = ([]); locals = []; items = ((Data (Number (pos 64)) (Var 0 sort.Val) (Of2 binary.Cons (Of unary.Vi (Number (pos 4))) Nil)) ∷ []) }) }) ∷ []) }) (record { is_void = false; name = name_f; params = (name_p ∷ []); vars = ((name_v, sort.Val) ∷ []); pre = (record { opened = []; facts = ([]); locals = ((name_p, (Var 0 sort.Val)) ∷ []); items = ((Data (Number (pos 64)) (Var 0 sort.Val) (Of2 binary.Cons (Of unary.Vi (Number (pos 4))) Nil)) ∷ []) }); post = (record { opened = (sort.Val ∷ []); facts = ([]); locals = []; items = ((Data (Number (pos 64)) (Var 0 sort.Val) (Of2 binary.Cons (Of unary.Vi (Number (pos 4))) Nil)) ∷ []) }) }) (record { temps = (name_p ∷ name_t ∷ []); body = (c.Then (c.Malloc 1 1) (c.Then (c.Return (Some (c.Temp 1))) c.End)) }) (s.Then 1 (s.Malloc name_m ([]) ([])) (s.WithBlock (s.Then 2 (s.Return ([]) ([]) ([])) s.NoBlock s.End) (s.WithBlock (s.Then 3 (s.Return ((Named name_m) ∷ []) ([]) ([])) s.NoBlock s.End) s.NoBlock)) s.End) ≡ (RefusedAt 2 9 1)
unfolding computing
conditions_325 = refl

conditions_326 : body_verdict (record { predicates = ([]); specs = ((record { is_void = false; name = name_f; params = (name_p ∷ []); vars = ((name_v, sort.Val) ∷ []); pre = (record { opened = []; facts = ([]); locals = ((name_p, (Var 0 sort.Val)) ∷ []); items = ((Data (Number (pos 64)) (Var 0 sort.Val) (Of2 binary.Cons (Of unary.Vi (Number (pos 4))) Nil)) ∷ []) }); post = (record { opened = []; facts = ((Rel relation.Eq (Var 1 sort.Val) (Of unary.Vi (Number (pos 0)))) ∷ []); locals = []; items = ((Data (Number (pos 64)) (Var 0 sort.Val) (Of2 binary.Cons (Of unary.Vi (Number (pos 4))) Nil)) ∷ []) }) }) ∷ []) }) (record { is_void = false; name = name_f; params = (name_p ∷ []); vars = ((name_v, sort.Val) ∷ []); pre = (record { opened = []; facts = ([]); locals = ((name_p, (Var 0 sort.Val)) ∷ []); items = ((Data (Number (pos 64)) (Var 0 sort.Val) (Of2 binary.Cons (Of unary.Vi (Number (pos 4))) Nil)) ∷ []) }); post = (record { opened = []; facts = ((Rel relation.Eq (Var 1 sort.Val) (Of unary.Vi (Number (pos 0)))) ∷ []); locals = []; items = ((Data (Number (pos 64)) (Var 0 sort.Val) (Of2 binary.Cons (Of unary.Vi (Number (pos 4))) Nil)) ∷ []) }) }) (record { temps = (name_p ∷ name_t ∷ []); body = (c.Then (c.Malloc 1 1) (c.Then (c.Return (Some (c.Temp 1))) c.End)) }) (s.Then 1 (s.Malloc name_m ([]) ([])) (s.WithBlock (s.Then 2 (s.Return ([]) ([]) ([])) s.NoBlock s.End) (s.WithBlock (s.Then 3 (s.Return ((Named name_m) ∷ []) ([]) ([])) s.NoBlock s.End) s.NoBlock)) s.End) ≡ (RefusedAt 3 9 1)
unfolding computing
conditions_326 = refl

conditions_327 : body_verdict (record { predicates = ([]); specs = ((record { is_void = false; name = name_f; params = (name_p ∷ []); vars = ((name_v, sort.Val) ∷ []); pre = (record { opened = []; facts = ([]); locals = ((name_p, (Var 0 sort.Val)) ∷ []); items = ((Data (Number (pos 64)) (Var 0 sort.Val) (Of2 binary.Cons (Of unary.Vi (Number (pos 4))) Nil)) ∷ []) }); post = (record { opened = (sort.Val ∷ []); facts = ((Rel relation.Eq (Var 1 sort.Val) (Of unary.Vi (Number (pos 0)))) ∷ []); locals = []; items = ((Data (Number (pos 64)) (Var 0 sort.Val) (Of2 binary.Cons (Of unary.Vi (Number (pos 4))) Nil)) ∷ []) }) }) ∷ []) }) (record { is_void = false; name = name_f; params = (name_p ∷ []); vars = ((name_v, sort.Val) ∷ []); pre = (record { opened = []; facts = ([]); locals = ((name_p, (Var 0 sort.Val)) ∷ []); items = ((Data (Number (pos 64)) (Var 0 sort.Val) (Of2 binary.Cons (Of unary.Vi (Number (pos 4))) Nil)) ∷ []) }); post = (record { opened = (sort.Val ∷ []); facts = ((Rel relation.Eq (Var 1 sort.Val) (Of unary.Vi (Number (pos 0)))) ∷ []); locals = []; items = ((Data (Number (pos 64)) (Var 0 sort.Val) (Of2 binary.Cons (Of unary.Vi (Number (pos 4))) Nil)) ∷ []) }) }) (record { temps = (name_p ∷ name_t ∷ []); body = (c.Then (c.Malloc 1 1) (c.Then (c.Return (Some (c.Temp 1))) c.End)) }) (s.Then 1 (s.Malloc name_m ([]) ([])) (s.WithBlock (s.Then 2 (s.Return ([]) ([]) ([])) s.NoBlock s.End) (s.WithBlock (s.Then 3 (s.Return ((Named name_m) ∷ []) ([]) ([])) s.NoBlock s.End) s.NoBlock)) s.End) ≡ (RefusedAt 2 9 1)
unfolding computing
conditions_327 = refl

conditions_328 : body_verdict (record { predicates = ([]); specs = ((record { is_void = false; name = name_f; params = (name_p ∷ []); vars = ((name_v, sort.Val) ∷ []); pre = (record { opened = []; facts = ([]); locals = ((name_p, (Var 0 sort.Val)) ∷ []); items = ((Data (Number (pos 64)) (Var 0 sort.Val) (Of2 binary.Cons (Of unary.Vi (Number (pos 4))) Nil)) ∷ []) }); post = (record { opened = []; facts = ([]); locals = []; items = ((Data (Number (pos 64)) (Var 0 sort.Val) (Of2 binary.Cons (Of unary.Vi (Number (pos 4))) Nil)) ∷ []) }) }) ∷ []) }) (record { is_void = false; name = name_f; params = (name_p ∷ []); vars = ((name_v, sort.Val) ∷ []); pre = (record { opened = []; facts = ([]); locals = ((name_p, (Var 0 sort.Val)) ∷ []); items = ((Data (Number (pos 64)) (Var 0 sort.Val) (Of2 binary.Cons (Of unary.Vi (Number (pos 4))) Nil)) ∷ []) }); post = (record { opened = []; facts = ([]); locals = []; items = ((Data (Number (pos 64)) (Var 0 sort.Val) (Of2 binary.Cons (Of unary.Vi (Number (pos 4))) Nil)) ∷ []) }) }) (record { temps = (name_p ∷ name_t ∷ []); body = (c.Then (c.Malloc 1 1) (c.Then (c.Return (Some (c.Temp 1))) c.End)) }) (s.Then 1 (s.Malloc name_m ([]) ([])) (s.WithBlock (s.Then 2 (s.Have (IsPtr (Named name_v)) ([])) s.NoBlock (s.Then 3 (s.Return ([]) ([]) ([])) s.NoBlock s.End)) (s.WithBlock (s.Then 4 (s.Return ([]) ([]) ([])) s.NoBlock s.End) s.NoBlock)) s.End) ≡ (RefusedAt 2 25 3)
unfolding computing
conditions_328 = refl

conditions_329 : body_verdict (record { predicates = ([]); specs = ((record { is_void = false; name = name_f; params = (name_p ∷ []); vars = ((name_v, sort.Val) ∷ []); pre = (record { opened = []; facts = ([]); locals = ((name_p, (Var 0 sort.Val)) ∷ []); items = ((Data (Number (pos 64)) (Var 0 sort.Val) (Of2 binary.Cons (Of unary.Vi (Number (pos 4))) Nil)) ∷ []) }); post = (record { opened = (sort.Val ∷ []); facts = ([]); locals = []; items = ((Data (Number (pos 64)) (Var 0 sort.Val) (Of2 binary.Cons (Of unary.Vi (Number (pos 4))) Nil)) ∷ []) }) }) ∷ []) }) (record { is_void = false; name = name_f; params = (name_p ∷ []); vars = ((name_v, sort.Val) ∷ []); pre = (record { opened = []; facts = ([]); locals = ((name_p, (Var 0 sort.Val)) ∷ []); items = ((Data (Number (pos 64)) (Var 0 sort.Val) (Of2 binary.Cons (Of unary.Vi (Number (pos 4))) Nil)) ∷ []) }); post = (record { opened = (sort.Val ∷ []); facts = ([]); locals = []; items = ((Data (Number (pos 64)) (Var 0 sort.Val) (Of2 binary.Cons (Of unary.Vi (Number (pos 4))) Nil)) ∷ []) }) }) (record { temps = (name_p ∷ name_t ∷ []); body = (c.Then (c.Malloc 1 1) (c.Then (c.Return (Some (c.Temp 1))) c.End)) }) (s.Then 1 (s.Malloc name_m ([]) ([])) (s.WithBlock (s.Then 2 (s.Have (IsPtr (Named name_v)) ([])) s.NoBlock (s.Then 3 (s.Return ([]) ([]) ([])) s.NoBlock s.End)) (s.WithBlock (s.Then 4 (s.Return ([]) ([]) ([])) s.NoBlock s.End) s.NoBlock)) s.End) ≡ (RefusedAt 2 25 3)
unfolding computing
conditions_329 = refl

conditions_330 : body_verdict (record { predicates = ([]); specs = ((record { is_void = false; name = name_f; params = (name_p ∷ []); vars = ((name_v, sort.Val) ∷ []); pre = (record { opened = []; facts = ([]); locals = ((name_p, (Var 0 sort.Val)) ∷ []); items = ((Data (Number (pos 64)) (Var 0 sort.Val) (Of2 binary.Cons (Of unary.Vi (Number (pos 4))) Nil)) ∷ []) }); post = (record { opened = []; facts = ((Rel relation.Eq (Var 1 sort.Val) (Of unary.Vi (Number (pos 0)))) ∷ []); locals = []; items = ((Data (Number (pos 64)) (Var 0 sort.Val) (Of2 binary.Cons (Of unary.Vi (Number (pos 4))) Nil)) ∷ []) }) }) ∷ []) }) (record { is_void = false; name = name_f; params = (name_p ∷ []); vars = ((name_v, sort.Val) ∷ []); pre = (record { opened = []; facts = ([]); locals = ((name_p, (Var 0 sort.Val)) ∷ []); items = ((Data (Number (pos 64)) (Var 0 sort.Val) (Of2 binary.Cons (Of unary.Vi (Number (pos 4))) Nil)) ∷ []) }); post = (record { opened = []; facts = ((Rel relation.Eq (Var 1 sort.Val) (Of unary.Vi (Number (pos 0)))) ∷ []); locals = []; items = ((Data (Number (pos 64)) (Var 0 sort.Val) (Of2 binary.Cons (Of unary.Vi (Number (pos 4))) Nil)) ∷ []) }) }) (record { temps = (name_p ∷ name_t ∷ []); body = (c.Then (c.Malloc 1 1) (c.Then (c.Return (Some (c.Temp 1))) c.End)) }) (s.Then 1 (s.Malloc name_m ([]) ([])) (s.WithBlock (s.Then 2 (s.Have (IsPtr (Named name_v)) ([])) s.NoBlock (s.Then 3 (s.Return ([]) ([]) ([])) s.NoBlock s.End)) (s.WithBlock (s.Then 4 (s.Return ([]) ([]) ([])) s.NoBlock s.End) s.NoBlock)) s.End) ≡ (RefusedAt 2 25 3)
unfolding computing
conditions_330 = refl

conditions_331 : body_verdict (record { predicates = ([]); specs = ((record { is_void = false; name = name_f; params = (name_p ∷ []); vars = ((name_v, sort.Val) ∷ []); pre = (record { opened = []; facts = ([]); locals = ((name_p, (Var 0 sort.Val)) ∷ []); items = ((Data (Number (pos 64)) (Var 0 sort.Val) (Of2 binary.Cons (Of unary.Vi (Number (pos 4))) Nil)) ∷ []) }); post = (record { opened = (sort.Val ∷ []); facts = ((Rel relation.Eq (Var 1 sort.Val) (Of unary.Vi (Number (pos 0)))) ∷ []); locals = []; items = ((Data (Number (pos 64)) (Var 0 sort.Val) (Of2 binary.Cons (Of unary.Vi (Number (pos 4))) Nil)) ∷ []) }) }) ∷ []) }) (record { is_void = false; name = name_f; params = (name_p ∷ []); vars = ((name_v, sort.Val) ∷ []); pre = (record { opened = []; facts = ([]); locals = ((name_p, (Var 0 sort.Val)) ∷ []); items = ((Data (Number (pos 64)) (Var 0 sort.Val) (Of2 binary.Cons (Of unary.Vi (Number (pos 4))) Nil)) ∷ []) }); post = (record { opened = (sort.Val ∷ []); facts = ((Rel relation.Eq (Var 1 sort.Val) (Of unary.Vi (Number (pos 0)))) ∷ []); locals = []; items = ((Data (Number (pos 64)) (Var 0 sort.Val) (Of2 binary.Cons (Of unary.Vi (Number (pos 4))) Nil)) ∷ []) }) }) (record { temps = (name_p ∷ name_t ∷ []); body = (c.Then (c.Malloc 1 1) (c.Then (c.Return (Some (c.Temp 1))) c.End)) }) (s.Then 1 (s.Malloc name_m ([]) ([])) (s.WithBlock (s.Then 2 (s.Have (IsPtr (Named name_v)) ([])) s.NoBlock (s.Then 3 (s.Return ([]) ([]) ([])) s.NoBlock s.End)) (s.WithBlock (s.Then 4 (s.Return ([]) ([]) ([])) s.NoBlock s.End) s.NoBlock)) s.End) ≡ (RefusedAt 2 25 3)
unfolding computing
conditions_331 = refl

conditions_332 : body_verdict (record { predicates = ((record { name = name_A; args = (sort.Int ∷ []); cases = ((record { opened = []; facts = ([]); locals = []; items = ([]) }) ∷ []) }) ∷ []); specs = ((record { is_void = true; name = name_f; params = (name_p ∷ []); vars = ((name_v, sort.Val) ∷ (name_w, sort.Val) ∷ []); pre = (record { opened = []; facts = ([]); locals = ((name_p, (Var 0 sort.Val)) ∷ []); items = ((Data (Number (pos 64)) (Var 0 sort.Val) (Of2 binary.Cons Undef Nil)) ∷ []) }); post = (record { opened = []; facts = ([]); locals = []; items = ((Lock (Number (pos 64)) (Var 0 sort.Val) (record { name = name_A; args = ((Number (pos 1)) ∷ []) })) ∷ (Holds (Var 0 sort.Val) (record { name = name_A; args = ((Number (pos 1)) ∷ []) })) ∷ []) }) }) ∷ []) }) (record { is_void = true; name = name_f; params = (name_p ∷ []); vars = ((name_v, sort.Val) ∷ (name_w, sort.Val) ∷ []); pre = (record { opened = []; facts = ([]); locals = ((name_p, (Var 0 sort.Val)) ∷ []); items = ((Data (Number (pos 64)) (Var 0 sort.Val) (Of2 binary.Cons Undef Nil)) ∷ []) }); post = (record { opened = []; facts = ([]); locals = []; items = ((Lock (Number (pos 64)) (Var 0 sort.Val) (record { name = name_A; args = ((Number (pos 1)) ∷ []) })) ∷ (Holds (Var 0 sort.Val) (record { name = name_A; args = ((Number (pos 1)) ∷ []) })) ∷ []) }) }) (record { temps = (name_p ∷ []); body = (c.Then (c.OnLock lock.Make (c.Temp 0)) (c.Then (c.Return None) c.End)) }) (s.Then 1 (s.MakeLock 0 (record { name = name_A; args = ((Number (pos 1)) ∷ []) }) ([]) ([])) s.NoBlock (s.Then 2 (s.Return ([]) ([]) ([])) s.NoBlock s.End)) ≡ Accepted
unfolding computing
conditions_332 = refl

conditions_333 : body_verdict (record { predicates = ((record { name = name_A; args = (sort.Int ∷ []); cases = ((record { opened = []; facts = ([]); locals = []; items = ([]) }) ∷ []) }) ∷ []); specs = ((record { is_void = true; name = name_f; params = (name_p ∷ []); vars = ((name_v, sort.Val) ∷ (name_w, sort.Val) ∷ []); pre = (record { opened = []; facts = ([]); locals = ((name_p, (Var 0 sort.Val)) ∷ []); items = ((Lock (Number (pos 64)) (Var 0 sort.Val) (record { name = name_A; args = ((Number (pos 1)) ∷ []) })) ∷ []) }); post = (record { opened = []; facts = ([]); locals = []; items = ((Lock (Number (pos 64)) (Var 0 sort.Val) (record { name = name_A; args = ((Number (pos 1)) ∷ []) })) ∷ (Holds (Var 0 sort.Val) (record { name = name_A; args = ((Number (pos 1)) ∷ []) })) ∷ (Pred (record { name = name_A; args = ((Number (pos 1)) ∷ []) })) ∷ []) }) }) ∷ []) }) (record { is_void = true; name = name_f; params = (name_p ∷ []); vars = ((name_v, sort.Val) ∷ (name_w, sort.Val) ∷ []); pre = (record { opened = []; facts = ([]); locals = ((name_p, (Var 0 sort.Val)) ∷ []); items = ((Lock (Number (pos 64)) (Var 0 sort.Val) (record { name = name_A; args = ((Number (pos 1)) ∷ []) })) ∷ []) }); post = (record { opened = []; facts = ([]); locals = []; items = ((Lock (Number (pos 64)) (Var 0 sort.Val) (record { name = name_A; args = ((Number (pos 1)) ∷ []) })) ∷ (Holds (Var 0 sort.Val) (record { name = name_A; args = ((Number (pos 1)) ∷ []) })) ∷ (Pred (record { name = name_A; args = ((Number (pos 1)) ∷ []) })) ∷ []) }) }) (record { temps = (name_p ∷ []); body = (c.Then (c.OnLock lock.Acquire (c.Temp 0)) (c.Then (c.Return None) c.End)) }) (s.Then 1 (s.Acquire 0 ([])) s.NoBlock (s.Then 2 (s.Return ([]) ([]) ([])) s.NoBlock s.End)) ≡ Accepted
unfolding computing
conditions_333 = refl

conditions_334 : body_verdict (record { predicates = ((record { name = name_A; args = (sort.Int ∷ []); cases = ((record { opened = []; facts = ([]); locals = []; items = ([]) }) ∷ []) }) ∷ []); specs = ((record { is_void = true; name = name_f; params = (name_p ∷ []); vars = ((name_v, sort.Val) ∷ (name_w, sort.Val) ∷ []); pre = (record { opened = []; facts = ([]); locals = ((name_p, (Var 0 sort.Val)) ∷ []); items = ((Holds (Var 0 sort.Val) (record { name = name_A; args = ((Number (pos 1)) ∷ []) })) ∷ (Pred (record { name = name_A; args = ((Number (pos 1)) ∷ []) })) ∷ []) }); post = (record { opened = []; facts = ([]); locals = []; items = ([]) }) }) ∷ []) }) (record { is_void = true; name = name_f; params = (name_p ∷ []); vars = ((name_v, sort.Val) ∷ (name_w, sort.Val) ∷ []); pre = (record { opened = []; facts = ([]); locals = ((name_p, (Var 0 sort.Val)) ∷ []); items = ((Holds (Var 0 sort.Val) (record { name = name_A; args = ((Number (pos 1)) ∷ []) })) ∷ (Pred (record { name = name_A; args = ((Number (pos 1)) ∷ []) })) ∷ []) }); post = (record { opened = []; facts = ([]); locals = []; items = ([]) }) }) (record { temps = (name_p ∷ []); body = (c.Then (c.OnLock lock.Release (c.Temp 0)) (c.Then (c.Return None) c.End)) }) (s.Then 1 (s.Release 0 1 ([])) s.NoBlock (s.Then 2 (s.Return ([]) ([]) ([])) s.NoBlock s.End)) ≡ Accepted
unfolding computing
conditions_334 = refl

conditions_335 : body_verdict (record { predicates = ((record { name = name_A; args = (sort.Int ∷ []); cases = ((record { opened = []; facts = ([]); locals = []; items = ([]) }) ∷ []) }) ∷ []); specs = ((record { is_void = true; name = name_f; params = (name_p ∷ []); vars = ((name_v, sort.Val) ∷ (name_w, sort.Val) ∷ []); pre = (record { opened = []; facts = ([]); locals = ((name_p, (Var 0 sort.Val)) ∷ []); items = ((Lock (Number (pos 64)) (Var 0 sort.Val) (record { name = name_A; args = ((Number (pos 1)) ∷ []) })) ∷ (Holds (Var 0 sort.Val) (record { name = name_A; args = ((Number (pos 1)) ∷ []) })) ∷ []) }); post = (record { opened = []; facts = ([]); locals = []; items = ((Data (Number (pos 64)) (Var 0 sort.Val) (Of2 binary.Cons Undef Nil)) ∷ []) }) }) ∷ []) }) (record { is_void = true; name = name_f; params = (name_p ∷ []); vars = ((name_v, sort.Val) ∷ (name_w, sort.Val) ∷ []); pre = (record { opened = []; facts = ([]); locals = ((name_p, (Var 0 sort.Val)) ∷ []); items = ((Lock (Number (pos 64)) (Var 0 sort.Val) (record { name = name_A; args = ((Number (pos 1)) ∷ []) })) ∷ (Holds (Var 0 sort.Val) (record { name = name_A; args = ((Number (pos 1)) ∷ []) })) ∷ []) }); post = (record { opened = []; facts = ([]); locals = []; items = ((Data (Number (pos 64)) (Var 0 sort.Val) (Of2 binary.Cons Undef Nil)) ∷ []) }) }) (record { temps = (name_p ∷ []); body = (c.Then (c.OnLock lock.Free (c.Temp 0)) (c.Then (c.Return None) c.End)) }) (s.Then 1 (s.FreeLock 0 1 ([]) ([])) s.NoBlock (s.Then 2 (s.Return ([]) ([]) ([])) s.NoBlock s.End)) ≡ Accepted
unfolding computing
conditions_335 = refl

conditions_336 : body_verdict (record { predicates = ((record { name = name_A; args = (sort.Int ∷ []); cases = ((record { opened = []; facts = ([]); locals = []; items = ([]) }) ∷ []) }) ∷ []); specs = ((record { is_void = true; name = name_f; params = (name_p ∷ []); vars = ((name_v, sort.Val) ∷ (name_w, sort.Val) ∷ []); pre = (record { opened = []; facts = ([]); locals = ((name_p, (Var 0 sort.Val)) ∷ []); items = ((Data (Number (pos 64)) (Var 0 sort.Val) (Of2 binary.Cons Undef Nil)) ∷ []) }); post = (record { opened = []; facts = ([]); locals = []; items = ((Lock (Number (pos 64)) (Var 0 sort.Val) (record { name = name_A; args = ((Number (pos 1)) ∷ []) })) ∷ (Holds (Var 0 sort.Val) (record { name = name_A; args = ((Number (pos 1)) ∷ []) })) ∷ []) }) }) ∷ []) }) (record { is_void = true; name = name_f; params = (name_p ∷ []); vars = ((name_v, sort.Val) ∷ (name_w, sort.Val) ∷ []); pre = (record { opened = []; facts = ([]); locals = ((name_p, (Var 0 sort.Val)) ∷ []); items = ((Data (Number (pos 64)) (Var 0 sort.Val) (Of2 binary.Cons Undef Nil)) ∷ []) }); post = (record { opened = []; facts = ([]); locals = []; items = ((Lock (Number (pos 64)) (Var 0 sort.Val) (record { name = name_A; args = ((Number (pos 1)) ∷ []) })) ∷ (Holds (Var 0 sort.Val) (record { name = name_A; args = ((Number (pos 1)) ∷ []) })) ∷ []) }) }) (record { temps = (name_p ∷ []); body = (c.Then (c.OnLock lock.Make (c.Temp 0)) (c.Then (c.Return None) c.End)) }) (s.Then 1 (s.Forget (forgotten.Local name_p)) s.NoBlock (s.Then 2 (s.MakeLock 0 (record { name = name_A; args = ((Number (pos 1)) ∷ []) }) ([]) ([])) s.NoBlock (s.Then 3 (s.Return ([]) ([]) ([])) s.NoBlock s.End))) ≡ (RefusedAt 2 16 2)
unfolding computing
conditions_336 = refl

conditions_337 : body_verdict (record { predicates = ((record { name = name_A; args = (sort.Int ∷ []); cases = ((record { opened = []; facts = ([]); locals = []; items = ([]) }) ∷ []) }) ∷ []); specs = ((record { is_void = true; name = name_f; params = (name_p ∷ []); vars = ((name_v, sort.Val) ∷ (name_w, sort.Val) ∷ []); pre = (record { opened = []; facts = ([]); locals = ((name_p, (Var 0 sort.Val)) ∷ []); items = ((Lock (Number (pos 64)) (Var 0 sort.Val) (record { name = name_A; args = ((Number (pos 1)) ∷ []) })) ∷ []) }); post = (record { opened = []; facts = ([]); locals = []; items = ((Lock (Number (pos 64)) (Var 0 sort.Val) (record { name = name_A; args = ((Number (pos 1)) ∷ []) })) ∷ (Holds (Var 0 sort.Val) (record { name = name_A; args = ((Number (pos 1)) ∷ []) })) ∷ (Pred (record { name = name_A; args = ((Number (pos 1)) ∷ []) })) ∷ []) }) }) ∷ []) }) (record { is_void = true; name = name_f; params = (name_p ∷ []); vars = ((name_v, sort.Val) ∷ (name_w, sort.Val) ∷ []); pre = (record { opened = []; facts = ([]); locals = ((name_p, (Var 0 sort.Val)) ∷ []); items = ((Lock (Number (pos 64)) (Var 0 sort.Val) (record { name = name_A; args = ((Number (pos 1)) ∷ []) })) ∷ []) }); post = (record { opened = []; facts = ([]); locals = []; items = ((Lock (Number (pos 64)) (Var 0 sort.Val) (record { name = name_A; args = ((Number (pos 1)) ∷ []) })) ∷ (Holds (Var 0 sort.Val) (record { name = name_A; args = ((Number (pos 1)) ∷ []) })) ∷ (Pred (record { name = name_A; args = ((Number (pos 1)) ∷ []) })) ∷ []) }) }) (record { temps = (name_p ∷ []); body = (c.Then (c.OnLock lock.Acquire (c.Temp 0)) (c.Then (c.Return None) c.End)) }) (s.Then 1 (s.Forget (forgotten.Local name_p)) s.NoBlock (s.Then 2 (s.Acquire 0 ([])) s.NoBlock (s.Then 3 (s.Return ([]) ([]) ([])) s.NoBlock s.End))) ≡ (RefusedAt 2 17 2)
unfolding computing
conditions_337 = refl

conditions_338 : body_verdict (record { predicates = ((record { name = name_A; args = (sort.Int ∷ []); cases = ((record { opened = []; facts = ([]); locals = []; items = ([]) }) ∷ []) }) ∷ []); specs = ((record { is_void = true; name = name_f; params = (name_p ∷ []); vars = ((name_v, sort.Val) ∷ (name_w, sort.Val) ∷ []); pre = (record { opened = []; facts = ([]); locals = ((name_p, (Var 0 sort.Val)) ∷ []); items = ((Holds (Var 0 sort.Val) (record { name = name_A; args = ((Number (pos 1)) ∷ []) })) ∷ (Pred (record { name = name_A; args = ((Number (pos 1)) ∷ []) })) ∷ []) }); post = (record { opened = []; facts = ([]); locals = []; items = ([]) }) }) ∷ []) }) (record { is_void = true; name = name_f; params = (name_p ∷ []); vars = ((name_v, sort.Val) ∷ (name_w, sort.Val) ∷ []); pre = (record { opened = []; facts = ([]); locals = ((name_p, (Var 0 sort.Val)) ∷ []); items = ((Holds (Var 0 sort.Val) (record { name = name_A; args = ((Number (pos 1)) ∷ []) })) ∷ (Pred (record { name = name_A; args = ((Number (pos 1)) ∷ []) })) ∷ []) }); post = (record { opened = []; facts = ([]); locals = []; items = ([]) }) }) (record { temps = (name_p ∷ []); body = (c.Then (c.OnLock lock.Release (c.Temp 0)) (c.Then (c.Return None) c.End)) }) (s.Then 1 (s.Forget (forgotten.Local name_p)) s.NoBlock (s.Then 2 (s.Release 0 1 ([])) s.NoBlock (s.Then 3 (s.Return ([]) ([]) ([])) s.NoBlock s.End))) ≡ (RefusedAt 2 18 2)
unfolding computing
conditions_338 = refl

conditions_339 : body_verdict (record { predicates = ((record { name = name_A; args = (sort.Int ∷ []); cases = ((record { opened = []; facts = ([]); locals = []; items = ([]) }) ∷ []) }) ∷ []); specs = ((record { is_void = true; name = name_f; params = (name_p ∷ []); vars = ((name_v, sort.Val) ∷ (name_w, sort.Val) ∷ []); pre = (record { opened = []; facts = ([]); locals = ((name_p, (Var 0 sort.Val)) ∷ []); items = ((Lock (Number (pos 64)) (Var 0 sort.Val) (record { name = name_A; args = ((Number (pos 1)) ∷ []) })) ∷ (Holds (Var 0 sort.Val) (record { name = name_A; args = ((Number (pos 1)) ∷ []) })) ∷ []) }); post = (record { opened = []; facts = ([]); locals = []; items = ((Data (Number (pos 64)) (Var 0 sort.Val) (Of2 binary.Cons Undef Nil)) ∷ []) }) }) ∷ []) }) (record { is_void = true; name = name_f; params = (name_p ∷ []); vars = ((name_v, sort.Val) ∷ (name_w, sort.Val) ∷ []); pre = (record { opened = []; facts = ([]); locals = ((name_p, (Var 0 sort.Val)) ∷ []); items = ((Lock (Number (pos 64)) (Var 0 sort.Val) (record { name = name_A; args = ((Number (pos 1)) ∷ []) })) ∷ (Holds (Var 0 sort.Val) (record { name = name_A; args = ((Number (pos 1)) ∷ []) })) ∷ []) }); post = (record { opened = []; facts = ([]); locals = []; items = ((Data (Number (pos 64)) (Var 0 sort.Val) (Of2 binary.Cons Undef Nil)) ∷ []) }) }) (record { temps = (name_p ∷ []); body = (c.Then (c.OnLock lock.Free (c.Temp 0)) (c.Then (c.Return None) c.End)) }) (s.Then 1 (s.Forget (forgotten.Local name_p)) s.NoBlock (s.Then 2 (s.FreeLock 0 1 ([]) ([])) s.NoBlock (s.Then 3 (s.Return ([]) ([]) ([])) s.NoBlock s.End))) ≡ (RefusedAt 2 19 2)
unfolding computing
conditions_339 = refl

conditions_340 : body_verdict (record { predicates = ((record { name = name_A; args = (sort.Int ∷ []); cases = ((record { opened = []; facts = ([]); locals = []; items = ([]) }) ∷ []) }) ∷ []); specs = ((record { is_void = true; name = name_f; params = (name_p ∷ []); vars = ((name_v, sort.Val) ∷ (name_w, sort.Val) ∷ []); pre = (record { opened = []; facts = ([]); locals = ((name_p, (Var 0 sort.Val)) ∷ []); items = ((Lock (Number (pos 64)) (Var 0 sort.Val) (record { name = name_A; args = ((Number (pos 1)) ∷ []) })) ∷ (Lock (Number (pos 1)) (Var 1 sort.Val) (record { name = name_A; args = ((Number (pos 1)) ∷ []) })) ∷ []) }); post = (record { opened = []; facts = ([]); locals = []; items = ((Lock (Number (pos 64)) (Var 0 sort.Val) (record { name = name_A; args = ((Number (pos 1)) ∷ []) })) ∷ (Lock (Number (pos 1)) (Var 1 sort.Val) (record { name = name_A; args = ((Number (pos 1)) ∷ []) })) ∷ (Holds (Var 0 sort.Val) (record { name = name_A; args = ((Number (pos 1)) ∷ []) })) ∷ (Pred (record { name = name_A; args = ((Number (pos 1)) ∷ []) })) ∷ []) }) }) ∷ []) }) (record { is_void = true; name = name_f; params = (name_p ∷ []); vars = ((name_v, sort.Val) ∷ (name_w, sort.Val) ∷ []); pre = (record { opened = []; facts = ([]); locals = ((name_p, (Var 0 sort.Val)) ∷ []); items = ((Lock (Number (pos 64)) (Var 0 sort.Val) (record { name = name_A; args = ((Number (pos 1)) ∷ []) })) ∷ (Lock (Number (pos 1)) (Var 1 sort.Val) (record { name = name_A; args = ((Number (pos 1)) ∷ []) })) ∷ []) }); post = (record { opened = []; facts = ([]); locals = []; items = ((Lock (Number (pos 64)) (Var 0 sort.Val) (record { name = name_A; args = ((Number (pos 1)) ∷ []) })) ∷ (Lock (Number (pos 1)) (Var 1 sort.Val) (record { name = name_A; args = ((Number (pos 1)) ∷ []) })) ∷ (Holds (Var 0 sort.Val) (record { name = name_A; args = ((Number (pos 1)) ∷ []) })) ∷ (Pred (record { name = name_A; args = ((Number (pos 1)) ∷ []) })) ∷ []) }) }) (record { temps = (name_p ∷ []); body = (c.Then (c.OnLock lock.Acquire (c.Temp 0)) (c.Then (c.Return None) c.End)) }) (s.Then 1 (s.Acquire 0 ([])) s.NoBlock (s.Then 2 (s.Return ([]) ([]) ([])) s.NoBlock s.End)) ≡ Accepted
unfolding computing
conditions_340 = refl

conditions_341 : body_verdict (record { predicates = ((record { name = name_A; args = (sort.Int ∷ []); cases = ((record { opened = []; facts = ([]); locals = []; items = ([]) }) ∷ []) }) ∷ []); specs = ((record { is_void = true; name = name_f; params = (name_p ∷ []); vars = ((name_v, sort.Val) ∷ (name_w, sort.Val) ∷ []); pre = (record { opened = []; facts = ([]); locals = ((name_p, (Var 0 sort.Val)) ∷ []); items = ((Lock (Number (pos 64)) (Var 0 sort.Val) (record { name = name_A; args = ((Number (pos 1)) ∷ []) })) ∷ (Lock (Number (pos 1)) (Var 1 sort.Val) (record { name = name_A; args = ((Number (pos 1)) ∷ []) })) ∷ []) }); post = (record { opened = []; facts = ([]); locals = []; items = ((Lock (Number (pos 64)) (Var 0 sort.Val) (record { name = name_A; args = ((Number (pos 1)) ∷ []) })) ∷ (Lock (Number (pos 1)) (Var 1 sort.Val) (record { name = name_A; args = ((Number (pos 1)) ∷ []) })) ∷ (Holds (Var 0 sort.Val) (record { name = name_A; args = ((Number (pos 1)) ∷ []) })) ∷ (Pred (record { name = name_A; args = ((Number (pos 1)) ∷ []) })) ∷ []) }) }) ∷ []) }) (record { is_void = true; name = name_f; params = (name_p ∷ []); vars = ((name_v, sort.Val) ∷ (name_w, sort.Val) ∷ []); pre = (record { opened = []; facts = ([]); locals = ((name_p, (Var 0 sort.Val)) ∷ []); items = ((Lock (Number (pos 64)) (Var 0 sort.Val) (record { name = name_A; args = ((Number (pos 1)) ∷ []) })) ∷ (Lock (Number (pos 1)) (Var 1 sort.Val) (record { name = name_A; args = ((Number (pos 1)) ∷ []) })) ∷ []) }); post = (record { opened = []; facts = ([]); locals = []; items = ((Lock (Number (pos 64)) (Var 0 sort.Val) (record { name = name_A; args = ((Number (pos 1)) ∷ []) })) ∷ (Lock (Number (pos 1)) (Var 1 sort.Val) (record { name = name_A; args = ((Number (pos 1)) ∷ []) })) ∷ (Holds (Var 0 sort.Val) (record { name = name_A; args = ((Number (pos 1)) ∷ []) })) ∷ (Pred (record { name = name_A; args = ((Number (pos 1)) ∷ []) })) ∷ []) }) }) (record { temps = (name_p ∷ []); body = (c.Then (c.OnLock lock.Acquire (c.Temp 0)) (c.Then (c.Return None) c.End)) }) (s.Then 1 (s.Acquire 1 ([])) s.NoBlock (s.Then 2 (s.Return ([]) ([]) ([])) s.NoBlock s.End)) ≡ (RefusedAt 1 17 1)
unfolding computing
conditions_341 = refl

conditions_342 : body_verdict (record { predicates = ((record { name = name_A; args = (sort.Int ∷ []); cases = ((record { opened = []; facts = ([]); locals = []; items = ([]) }) ∷ []) }) ∷ []); specs = ((record { is_void = true; name = name_f; params = (name_p ∷ []); vars = ((name_v, sort.Val) ∷ (name_w, sort.Val) ∷ []); pre = (record { opened = []; facts = ([]); locals = ((name_p, (Var 0 sort.Val)) ∷ []); items = ((Lock (Number (pos 64)) (Var 0 sort.Val) (record { name = name_A; args = ((Number (pos 1)) ∷ []) })) ∷ (Lock (Number (pos 1)) (Var 1 sort.Val) (record { name = name_A; args = ((Number (pos 1)) ∷ []) })) ∷ []) }); post = (record { opened = []; facts = ([]); locals = []; items = ((Lock (Number (pos 64)) (Var 0 sort.Val) (record { name = name_A; args = ((Number (pos 1)) ∷ []) })) ∷ (Lock (Number (pos 1)) (Var 1 sort.Val) (record { name = name_A; args = ((Number (pos 1)) ∷ []) })) ∷ (Holds (Var 0 sort.Val) (record { name = name_A; args = ((Number (pos 1)) ∷ []) })) ∷ (Pred (record { name = name_A; args = ((Number (pos 1)) ∷ []) })) ∷ []) }) }) ∷ []) }) (record { is_void = true; name = name_f; params = (name_p ∷ []); vars = ((name_v, sort.Val) ∷ (name_w, sort.Val) ∷ []); pre = (record { opened = []; facts = ([]); locals = ((name_p, (Var 0 sort.Val)) ∷ []); items = ((Lock (Number (pos 64)) (Var 0 sort.Val) (record { name = name_A; args = ((Number (pos 1)) ∷ []) })) ∷ (Lock (Number (pos 1)) (Var 1 sort.Val) (record { name = name_A; args = ((Number (pos 1)) ∷ []) })) ∷ []) }); post = (record { opened = []; facts = ([]); locals = []; items = ((Lock (Number (pos 64)) (Var 0 sort.Val) (record { name = name_A; args = ((Number (pos 1)) ∷ []) })) ∷ (Lock (Number (pos 1)) (Var 1 sort.Val) (record { name = name_A; args = ((Number (pos 1)) ∷ []) })) ∷ (Holds (Var 0 sort.Val) (record { name = name_A; args = ((Number (pos 1)) ∷ []) })) ∷ (Pred (record { name = name_A; args = ((Number (pos 1)) ∷ []) })) ∷ []) }) }) (record { temps = (name_p ∷ []); body = (c.Then (c.OnLock lock.Acquire (c.Temp 0)) (c.Then (c.Return None) c.End)) }) (s.Then 1 (s.Acquire 2 ([])) s.NoBlock (s.Then 2 (s.Return ([]) ([]) ([])) s.NoBlock s.End)) ≡ (RefusedAt 1 17 1)
unfolding computing
conditions_342 = refl

conditions_343 : body_verdict (record { predicates = ((record { name = name_A; args = (sort.Int ∷ []); cases = ((record { opened = []; facts = ([]); locals = []; items = ([]) }) ∷ []) }) ∷ []); specs = ((record { is_void = true; name = name_f; params = (name_p ∷ []); vars = ((name_v, sort.Val) ∷ (name_w, sort.Val) ∷ []); pre = (record { opened = []; facts = ([]); locals = ((name_p, (Var 0 sort.Val)) ∷ []); items = ((Holds (Var 0 sort.Val) (record { name = name_A; args = ((Number (pos 1)) ∷ []) })) ∷ (Pred (record { name = name_A; args = ((Number (pos 1)) ∷ []) })) ∷ (Holds (Var 1 sort.Val) (record { name = name_A; args = ((Number (pos 1)) ∷ []) })) ∷ []) }); post = (record { opened = []; facts = ([]); locals = []; items = ((Holds (Var 1 sort.Val) (record { name = name_A; args = ((Number (pos 1)) ∷ []) })) ∷ []) }) }) ∷ []) }) (record { is_void = true; name = name_f; params = (name_p ∷ []); vars = ((name_v, sort.Val) ∷ (name_w, sort.Val) ∷ []); pre = (record { opened = []; facts = ([]); locals = ((name_p, (Var 0 sort.Val)) ∷ []); items = ((Holds (Var 0 sort.Val) (record { name = name_A; args = ((Number (pos 1)) ∷ []) })) ∷ (Pred (record { name = name_A; args = ((Number (pos 1)) ∷ []) })) ∷ (Holds (Var 1 sort.Val) (record { name = name_A; args = ((Number (pos 1)) ∷ []) })) ∷ []) }); post = (record { opened = []; facts = ([]); locals = []; items = ((Holds (Var 1 sort.Val) (record { name = name_A; args = ((Number (pos 1)) ∷ []) })) ∷ []) }) }) (record { temps = (name_p ∷ []); body = (c.Then (c.OnLock lock.Release (c.Temp 0)) (c.Then (c.Return None) c.End)) }) (s.Then 1 (s.Release 0 1 ([])) s.NoBlock (s.Then 2 (s.Return ([]) ([]) ([])) s.NoBlock s.End)) ≡ Accepted
unfolding computing
conditions_343 = refl

conditions_344 : body_verdict (record { predicates = ((record { name = name_A; args = (sort.Int ∷ []); cases = ((record { opened = []; facts = ([]); locals = []; items = ([]) }) ∷ []) }) ∷ []); specs = ((record { is_void = true; name = name_f; params = (name_p ∷ []); vars = ((name_v, sort.Val) ∷ (name_w, sort.Val) ∷ []); pre = (record { opened = []; facts = ([]); locals = ((name_p, (Var 0 sort.Val)) ∷ []); items = ((Lock (Number (pos 64)) (Var 0 sort.Val) (record { name = name_A; args = ((Number (pos 1)) ∷ []) })) ∷ (Holds (Var 0 sort.Val) (record { name = name_A; args = ((Number (pos 1)) ∷ []) })) ∷ (Holds (Var 1 sort.Val) (record { name = name_A; args = ((Number (pos 1)) ∷ []) })) ∷ []) }); post = (record { opened = []; facts = ([]); locals = []; items = ((Holds (Var 1 sort.Val) (record { name = name_A; args = ((Number (pos 1)) ∷ []) })) ∷ (Data (Number (pos 64)) (Var 0 sort.Val) (Of2 binary.Cons Undef Nil)) ∷ []) }) }) ∷ []) }) (record { is_void = true; name = name_f; params = (name_p ∷ []); vars = ((name_v, sort.Val) ∷ (name_w, sort.Val) ∷ []); pre = (record { opened = []; facts = ([]); locals = ((name_p, (Var 0 sort.Val)) ∷ []); items = ((Lock (Number (pos 64)) (Var 0 sort.Val) (record { name = name_A; args = ((Number (pos 1)) ∷ []) })) ∷ (Holds (Var 0 sort.Val) (record { name = name_A; args = ((Number (pos 1)) ∷ []) })) ∷ (Holds (Var 1 sort.Val) (record { name = name_A; args = ((Number (pos 1)) ∷ []) })) ∷ []) }); post = (record { opened = []; facts = ([]); locals = []; items = ((Holds (Var 1 sort.Val) (record { name = name_A; args = ((Number (pos 1)) ∷ []) })) ∷ (Data (Number (pos 64)) (Var 0 sort.Val) (Of2 binary.Cons Undef Nil)) ∷ []) }) }) (record { temps = (name_p ∷ []); body = (c.Then (c.OnLock lock.Free (c.Temp 0)) (c.Then (c.Return None) c.End)) }) (s.Then 1 (s.FreeLock 0 1 ([]) ([])) s.NoBlock (s.Then 2 (s.Return ([]) ([]) ([])) s.NoBlock s.End)) ≡ Accepted
unfolding computing
conditions_344 = refl

conditions_345 : body_verdict (record { predicates = ((record { name = name_A; args = (sort.Int ∷ []); cases = ((record { opened = []; facts = ([]); locals = []; items = ([]) }) ∷ []) }) ∷ []); specs = ((record { is_void = true; name = name_f; params = (name_p ∷ []); vars = ((name_v, sort.Val) ∷ (name_w, sort.Val) ∷ []); pre = (record { opened = []; facts = ([]); locals = ((name_p, (Var 0 sort.Val)) ∷ []); items = ((Holds (Var 0 sort.Val) (record { name = name_A; args = ((Number (pos 1)) ∷ []) })) ∷ (Pred (record { name = name_A; args = ((Number (pos 1)) ∷ []) })) ∷ (Holds (Var 1 sort.Val) (record { name = name_A; args = ((Number (pos 1)) ∷ []) })) ∷ []) }); post = (record { opened = []; facts = ([]); locals = []; items = ((Holds (Var 1 sort.Val) (record { name = name_A; args = ((Number (pos 1)) ∷ []) })) ∷ []) }) }) ∷ []) }) (record { is_void = true; name = name_f; params = (name_p ∷ []); vars = ((name_v, sort.Val) ∷ (name_w, sort.Val) ∷ []); pre = (record { opened = []; facts = ([]); locals = ((name_p, (Var 0 sort.Val)) ∷ []); items = ((Holds (Var 0 sort.Val) (record { name = name_A; args = ((Number (pos 1)) ∷ []) })) ∷ (Pred (record { name = name_A; args = ((Number (pos 1)) ∷ []) })) ∷ (Holds (Var 1 sort.Val) (record { name = name_A; args = ((Number (pos 1)) ∷ []) })) ∷ []) }); post = (record { opened = []; facts = ([]); locals = []; items = ((Holds (Var 1 sort.Val) (record { name = name_A; args = ((Number (pos 1)) ∷ []) })) ∷ []) }) }) (record { temps = (name_p ∷ []); body = (c.Then (c.OnLock lock.Release (c.Temp 0)) (c.Then (c.Return None) c.End)) }) (s.Then 1 (s.Release 1 0 ([])) s.NoBlock (s.Then 2 (s.Return ([]) ([]) ([])) s.NoBlock s.End)) ≡ (RefusedAt 1 18 1)
unfolding computing
conditions_345 = refl

conditions_346 : body_verdict (record { predicates = ((record { name = name_A; args = (sort.Int ∷ []); cases = ((record { opened = []; facts = ([]); locals = []; items = ([]) }) ∷ []) }) ∷ []); specs = ((record { is_void = true; name = name_f; params = (name_p ∷ []); vars = ((name_v, sort.Val) ∷ (name_w, sort.Val) ∷ []); pre = (record { opened = []; facts = ([]); locals = ((name_p, (Var 0 sort.Val)) ∷ []); items = ((Lock (Number (pos 64)) (Var 0 sort.Val) (record { name = name_A; args = ((Number (pos 1)) ∷ []) })) ∷ (Holds (Var 0 sort.Val) (record { name = name_A; args = ((Number (pos 1)) ∷ []) })) ∷ (Holds (Var 1 sort.Val) (record { name = name_A; args = ((Number (pos 1)) ∷ []) })) ∷ []) }); post = (record { opened = []; facts = ([]); locals = []; items = ((Holds (Var 1 sort.Val) (record { name = name_A; args = ((Number (pos 1)) ∷ []) })) ∷ (Data (Number (pos 64)) (Var 0 sort.Val) (Of2 binary.Cons Undef Nil)) ∷ []) }) }) ∷ []) }) (record { is_void = true; name = name_f; params = (name_p ∷ []); vars = ((name_v, sort.Val) ∷ (name_w, sort.Val) ∷ []); pre = (record { opened = []; facts = ([]); locals = ((name_p, (Var 0 sort.Val)) ∷ []); items = ((Lock (Number (pos 64)) (Var 0 sort.Val) (record { name = name_A; args = ((Number (pos 1)) ∷ []) })) ∷ (Holds (Var 0 sort.Val) (record { name = name_A; args = ((Number (pos 1)) ∷ []) })) ∷ (Holds (Var 1 sort.Val) (record { name = name_A; args = ((Number (pos 1)) ∷ []) })) ∷ []) }); post = (record { opened = []; facts = ([]); locals = []; items = ((Holds (Var 1 sort.Val) (record { name = name_A; args = ((Number (pos 1)) ∷ []) })) ∷ (Data (Number (pos 64)) (Var 0 sort.Val) (Of2 binary.Cons Undef Nil)) ∷ []) }) }) (record { temps = (name_p ∷ []); body = (c.Then (c.OnLock lock.Free (c.Temp 0)) (c.Then (c.Return None) c.End)) }) (s.Then 1 (s.FreeLock 1 0 ([]) ([])) s.NoBlock (s.Then 2 (s.Return ([]) ([]) ([])) s.NoBlock s.End)) ≡ (RefusedAt 1 19 1)
unfolding computing
conditions_346 = refl

conditions_347 : body_verdict (record { predicates = ((record { name = name_A; args = (sort.Int ∷ []); cases = ((record { opened = []; facts = ([]); locals = []; items = ([]) }) ∷ []) }) ∷ []); specs = ((record { is_void = true; name = name_f; params = (name_p ∷ []); vars = ((name_v, sort.Val) ∷ (name_w, sort.Val) ∷ []); pre = (record { opened = []; facts = ([]); locals = ((name_p, (Var 0 sort.Val)) ∷ []); items = ((Data (Number (pos 64)) (Var 0 sort.Val) (Of2 binary.Cons Undef Nil)) ∷ []) }); post = (record { opened = []; facts = ([]); locals = []; items = ((Lock (Number (pos 64)) (Var 0 sort.Val) (record { name = name_A; args = ((Number (pos 1)) ∷ []) })) ∷ (Holds (Var 0 sort.Val) (record { name = name_A; args = ((Number (pos 1)) ∷ []) })) ∷ []) }) }) ∷ []) }) (record { is_void = true; name = name_f; params = (name_p ∷ []); vars = ((name_v, sort.Val) ∷ (name_w, sort.Val) ∷ []); pre = (record { opened = []; facts = ([]); locals = ((name_p, (Var 0 sort.Val)) ∷ []); items = ((Data (Number (pos 64)) (Var 0 sort.Val) (Of2 binary.Cons Undef Nil)) ∷ []) }); post = (record { opened = []; facts = ([]); locals = []; items = ((Lock (Number (pos 64)) (Var 0 sort.Val) (record { name = name_A; args = ((Number (pos 1)) ∷ []) })) ∷ (Holds (Var 0 sort.Val) (record { name = name_A; args = ((Number (pos 1)) ∷ []) })) ∷ []) }) }) (record { temps = (name_p ∷ []); body = (c.Then (c.OnLock lock.Make (c.Temp 0)) (c.Then (c.Return None) c.End)) }) (s.Then 1 (s.MakeLock 1 (record { name = name_A; args = ((Number (pos 1)) ∷ []) }) ([]) ([])) s.NoBlock (s.Then 2 (s.Return ([]) ([]) ([])) s.NoBlock s.End)) ≡ (RefusedAt 1 16 1)
unfolding computing
conditions_347 = refl

conditions_348 : body_verdict (record { predicates = ((record { name = name_A; args = (sort.Int ∷ []); cases = ((record { opened = []; facts = ([]); locals = []; items = ([]) }) ∷ []) }) ∷ []); specs = ((record { is_void = true; name = name_f; params = (name_p ∷ []); vars = ((name_v, sort.Val) ∷ (name_w, sort.Val) ∷ []); pre = (record { opened = []; facts = ([]); locals = ((name_p, (Var 0 sort.Val)) ∷ []); items = ((Holds (Var 0 sort.Val) (record { name = name_A; args = ((Number (pos 1)) ∷ []) })) ∷ (Pred (record { name = name_A; args = ((Number (pos 1)) ∷ []) })) ∷ (Holds (Var 1 sort.Val) (record { name = name_A; args = ((Number (pos 1)) ∷ []) })) ∷ []) }); post = (record { opened = []; facts = ([]); locals = []; items = ((Holds (Var 1 sort.Val) (record { name = name_A; args = ((Number (pos 1)) ∷ []) })) ∷ []) }) }) ∷ []) }) (record { is_void = true; name = name_f; params = (name_p ∷ []); vars = ((name_v, sort.Val) ∷ (name_w, sort.Val) ∷ []); pre = (record { opened = []; facts = ([]); locals = ((name_p, (Var 0 sort.Val)) ∷ []); items = ((Holds (Var 0 sort.Val) (record { name = name_A; args = ((Number (pos 1)) ∷ []) })) ∷ (Pred (record { name = name_A; args = ((Number (pos 1)) ∷ []) })) ∷ (Holds (Var 1 sort.Val) (record { name = name_A; args = ((Number (pos 1)) ∷ []) })) ∷ []) }); post = (record { opened = []; facts = ([]); locals = []; items = ((Holds (Var 1 sort.Val) (record { name = name_A; args = ((Number (pos 1)) ∷ []) })) ∷ []) }) }) (record { temps = (name_p ∷ []); body = (c.Then (c.OnLock lock.Release (c.Temp 0)) (c.Then (c.Return None) c.End)) }) (s.Then 1 (s.Release 0 0 ([])) s.NoBlock (s.Then 2 (s.Return ([]) ([]) ([])) s.NoBlock s.End)) ≡ (RefusedAt 1 18 1)
unfolding computing
conditions_348 = refl

conditions_349 : body_verdict (record { predicates = ((record { name = name_A; args = (sort.Int ∷ []); cases = ((record { opened = []; facts = ([]); locals = []; items = ([]) }) ∷ []) }) ∷ []); specs = ((record { is_void = true; name = name_f; params = (name_p ∷ []); vars = ((name_v, sort.Val) ∷ (name_w, sort.Val) ∷ []); pre = (record { opened = []; facts = ([]); locals = ((name_p, (Var 0 sort.Val)) ∷ []); items = ((Lock (Number (pos 64)) (Var 0 sort.Val) (record { name = name_A; args = ((Number (pos 1)) ∷ []) })) ∷ (Holds (Var 0 sort.Val) (record { name = name_A; args = ((Number (pos 1)) ∷ []) })) ∷ (Holds (Var 1 sort.Val) (record { name = name_A; args = ((Number (pos 1)) ∷ []) })) ∷ []) }); post = (record { opened = []; facts = ([]); locals = []; items = ((Holds (Var 1 sort.Val) (record { name = name_A; args = ((Number (pos 1)) ∷ []) })) ∷ (Data (Number (pos 64)) (Var 0 sort.Val) (Of2 binary.Cons Undef Nil)) ∷ []) }) }) ∷ []) }) (record { is_void = true; name = name_f; params = (name_p ∷ []); vars = ((name_v, sort.Val) ∷ (name_w, sort.Val) ∷ []); pre = (record { opened = []; facts = ([]); locals = ((name_p, (Var 0 sort.Val)) ∷ []); items = ((Lock (Number (pos 64)) (Var 0 sort.Val) (record { name = name_A; args = ((Number (pos 1)) ∷ []) })) ∷ (Holds (Var 0 sort.Val) (record { name = name_A; args = ((Number (pos 1)) ∷ []) })) ∷ (Holds (Var 1 sort.Val) (record { name = name_A; args = ((Number (pos 1)) ∷ []) })) ∷ []) }); post = (record { opened = []; facts = ([]); locals = []; items = ((Holds (Var 1 sort.Val) (record { name = name_A; args = ((Number (pos 1)) ∷ []) })) ∷ (Data (Number (pos 64)) (Var 0 sort.Val) (Of2 binary.Cons Undef Nil)) ∷ []) }) }) (record { temps = (name_p ∷ []); body = (c.Then (c.OnLock lock.Free (c.Temp 0)) (c.Then (c.Return None) c.End)) }) (s.Then 1 (s.FreeLock 0 0 ([]) ([])) s.NoBlock (s.Then 2 (s.Return ([]) ([]) ([])) s.NoBlock s.End)) ≡ (RefusedAt 1 19 1)
unfolding computing
conditions_349 = refl

conditions_350 : body_verdict (record { predicates = ((record { name = name_A; args = (sort.Int ∷ []); cases = ((record { opened = []; facts = ([]); locals = []; items = ([]) }) ∷ []) }) ∷ []); specs = ((record { is_void = true; name = name_f; params = (name_p ∷ []); vars = ((name_v, sort.Val) ∷ (name_w, sort.Val) ∷ []); pre = (record { opened = []; facts = ([]); locals = ((name_p, (Var 0 sort.Val)) ∷ []); items = ((Holds (Var 0 sort.Val) (record { name = name_A; args = ((Number (pos 1)) ∷ []) })) ∷ (Pred (record { name = name_A; args = ((Number (pos 1)) ∷ []) })) ∷ (Holds (Var 1 sort.Val) (record { name = name_A; args = ((Number (pos 1)) ∷ []) })) ∷ []) }); post = (record { opened = []; facts = ([]); locals = []; items = ((Holds (Var 1 sort.Val) (record { name = name_A; args = ((Number (pos 1)) ∷ []) })) ∷ []) }) }) ∷ []) }) (record { is_void = true; name = name_f; params = (name_p ∷ []); vars = ((name_v, sort.Val) ∷ (name_w, sort.Val) ∷ []); pre = (record { opened = []; facts = ([]); locals = ((name_p, (Var 0 sort.Val)) ∷ []); items = ((Holds (Var 0 sort.Val) (record { name = name_A; args = ((Number (pos 1)) ∷ []) })) ∷ (Pred (record { name = name_A; args = ((Number (pos 1)) ∷ []) })) ∷ (Holds (Var 1 sort.Val) (record { name = name_A; args = ((Number (pos 1)) ∷ []) })) ∷ []) }); post = (record { opened = []; facts = ([]); locals = []; items = ((Holds (Var 1 sort.Val) (record { name = name_A; args = ((Number (pos 1)) ∷ []) })) ∷ []) }) }) (record { temps = (name_p ∷ []); body = (c.Then (c.OnLock lock.Release (c.Temp 0)) (c.Then (c.Return None) c.End)) }) (s.Then 1 (s.Release 1 1 ([])) s.NoBlock (s.Then 2 (s.Return ([]) ([]) ([])) s.NoBlock s.End)) ≡ (RefusedAt 1 18 1)
unfolding computing
conditions_350 = refl

conditions_351 : body_verdict (record { predicates = ((record { name = name_A; args = (sort.Int ∷ []); cases = ((record { opened = []; facts = ([]); locals = []; items = ([]) }) ∷ []) }) ∷ []); specs = ((record { is_void = true; name = name_f; params = (name_p ∷ []); vars = ((name_v, sort.Val) ∷ (name_w, sort.Val) ∷ []); pre = (record { opened = []; facts = ([]); locals = ((name_p, (Var 0 sort.Val)) ∷ []); items = ((Lock (Number (pos 64)) (Var 0 sort.Val) (record { name = name_A; args = ((Number (pos 1)) ∷ []) })) ∷ (Holds (Var 0 sort.Val) (record { name = name_A; args = ((Number (pos 1)) ∷ []) })) ∷ (Holds (Var 1 sort.Val) (record { name = name_A; args = ((Number (pos 1)) ∷ []) })) ∷ []) }); post = (record { opened = []; facts = ([]); locals = []; items = ((Holds (Var 1 sort.Val) (record { name = name_A; args = ((Number (pos 1)) ∷ []) })) ∷ (Data (Number (pos 64)) (Var 0 sort.Val) (Of2 binary.Cons Undef Nil)) ∷ []) }) }) ∷ []) }) (record { is_void = true; name = name_f; params = (name_p ∷ []); vars = ((name_v, sort.Val) ∷ (name_w, sort.Val) ∷ []); pre = (record { opened = []; facts = ([]); locals = ((name_p, (Var 0 sort.Val)) ∷ []); items = ((Lock (Number (pos 64)) (Var 0 sort.Val) (record { name = name_A; args = ((Number (pos 1)) ∷ []) })) ∷ (Holds (Var 0 sort.Val) (record { name = name_A; args = ((Number (pos 1)) ∷ []) })) ∷ (Holds (Var 1 sort.Val) (record { name = name_A; args = ((Number (pos 1)) ∷ []) })) ∷ []) }); post = (record { opened = []; facts = ([]); locals = []; items = ((Holds (Var 1 sort.Val) (record { name = name_A; args = ((Number (pos 1)) ∷ []) })) ∷ (Data (Number (pos 64)) (Var 0 sort.Val) (Of2 binary.Cons Undef Nil)) ∷ []) }) }) (record { temps = (name_p ∷ []); body = (c.Then (c.OnLock lock.Free (c.Temp 0)) (c.Then (c.Return None) c.End)) }) (s.Then 1 (s.FreeLock 1 1 ([]) ([])) s.NoBlock (s.Then 2 (s.Return ([]) ([]) ([])) s.NoBlock s.End)) ≡ (RefusedAt 1 19 1)
unfolding computing
conditions_351 = refl

conditions_352 : body_verdict (record { predicates = ((record { name = name_A; args = (sort.Int ∷ []); cases = ((record { opened = []; facts = ([]); locals = []; items = ([]) }) ∷ []) }) ∷ []); specs = ((record { is_void = true; name = name_f; params = (name_p ∷ []); vars = ((name_v, sort.Val) ∷ (name_w, sort.Val) ∷ []); pre = (record { opened = []; facts = ([]); locals = ((name_p, (Var 0 sort.Val)) ∷ []); items = ((Holds (Var 0 sort.Val) (record { name = name_A; args = ((Number (pos 1)) ∷ []) })) ∷ (Pred (record { name = name_A; args = ((Number (pos 1)) ∷ []) })) ∷ (Holds (Var 1 sort.Val) (record { name = name_A; args = ((Number (pos 1)) ∷ []) })) ∷ []) }); post = (record { opened = []; facts = ([]); locals = []; items = ((Holds (Var 1 sort.Val) (record { name = name_A; args = ((Number (pos 1)) ∷ []) })) ∷ []) }) }) ∷ []) }) (record { is_void = true; name = name_f; params = (name_p ∷ []); vars = ((name_v, sort.Val) ∷ (name_w, sort.Val) ∷ []); pre = (record { opened = []; facts = ([]); locals = ((name_p, (Var 0 sort.Val)) ∷ []); items = ((Holds (Var 0 sort.Val) (record { name = name_A; args = ((Number (pos 1)) ∷ []) })) ∷ (Pred (record { name = name_A; args = ((Number (pos 1)) ∷ []) })) ∷ (Holds (Var 1 sort.Val) (record { name = name_A; args = ((Number (pos 1)) ∷ []) })) ∷ []) }); post = (record { opened = []; facts = ([]); locals = []; items = ((Holds (Var 1 sort.Val) (record { name = name_A; args = ((Number (pos 1)) ∷ []) })) ∷ []) }) }) (record { temps = (name_p ∷ []); body = (c.Then (c.OnLock lock.Release (c.Temp 0)) (c.Then (c.Return None) c.End)) }) (s.Then 1 (s.Release 2 1 ([])) s.NoBlock (s.Then 2 (s.Return ([]) ([]) ([])) s.NoBlock s.End)) ≡ (RefusedAt 1 18 1)
unfolding computing
conditions_352 = refl

conditions_353 : body_verdict (record { predicates = ((record { name = name_A; args = (sort.Int ∷ []); cases = ((record { opened = []; facts = ([]); locals = []; items = ([]) }) ∷ []) }) ∷ []); specs = ((record { is_void = true; name = name_f; params = (name_p ∷ []); vars = ((name_v, sort.Val) ∷ (name_w, sort.Val) ∷ []); pre = (record { opened = []; facts = ([]); locals = ((name_p, (Var 0 sort.Val)) ∷ []); items = ((Lock (Number (pos 64)) (Var 0 sort.Val) (record { name = name_A; args = ((Number (pos 1)) ∷ []) })) ∷ (Holds (Var 0 sort.Val) (record { name = name_A; args = ((Number (pos 1)) ∷ []) })) ∷ (Holds (Var 1 sort.Val) (record { name = name_A; args = ((Number (pos 1)) ∷ []) })) ∷ []) }); post = (record { opened = []; facts = ([]); locals = []; items = ((Holds (Var 1 sort.Val) (record { name = name_A; args = ((Number (pos 1)) ∷ []) })) ∷ (Data (Number (pos 64)) (Var 0 sort.Val) (Of2 binary.Cons Undef Nil)) ∷ []) }) }) ∷ []) }) (record { is_void = true; name = name_f; params = (name_p ∷ []); vars = ((name_v, sort.Val) ∷ (name_w, sort.Val) ∷ []); pre = (record { opened = []; facts = ([]); locals = ((name_p, (Var 0 sort.Val)) ∷ []); items = ((Lock (Number (pos 64)) (Var 0 sort.Val) (record { name = name_A; args = ((Number (pos 1)) ∷ []) })) ∷ (Holds (Var 0 sort.Val) (record { name = name_A; args = ((Number (pos 1)) ∷ []) })) ∷ (Holds (Var 1 sort.Val) (record { name = name_A; args = ((Number (pos 1)) ∷ []) })) ∷ []) }); post = (record { opened = []; facts = ([]); locals = []; items = ((Holds (Var 1 sort.Val) (record { name = name_A; args = ((Number (pos 1)) ∷ []) })) ∷ (Data (Number (pos 64)) (Var 0 sort.Val) (Of2 binary.Cons Undef Nil)) ∷ []) }) }) (record { temps = (name_p ∷ []); body = (c.Then (c.OnLock lock.Free (c.Temp 0)) (c.Then (c.Return None) c.End)) }) (s.Then 1 (s.FreeLock 2 1 ([]) ([])) s.NoBlock (s.Then 2 (s.Return ([]) ([]) ([])) s.NoBlock s.End)) ≡ (RefusedAt 1 19 1)
unfolding computing
conditions_353 = refl

conditions_354 : body_verdict (record { predicates = ((record { name = name_A; args = (sort.Int ∷ []); cases = ((record { opened = []; facts = ([]); locals = []; items = ([]) }) ∷ []) }) ∷ []); specs = ((record { is_void = true; name = name_f; params = (name_p ∷ []); vars = ((name_v, sort.Val) ∷ (name_w, sort.Val) ∷ []); pre = (record { opened = []; facts = ([]); locals = ((name_p, (Var 0 sort.Val)) ∷ []); items = ((Data (Number (pos 64)) (Var 0 sort.Val) (Of2 binary.Cons Undef Nil)) ∷ []) }); post = (record { opened = []; facts = ([]); locals = []; items = ((Lock (Number (pos 64)) (Var 0 sort.Val) (record { name = name_A; args = ((Number (pos 1)) ∷ []) })) ∷ (Holds (Var 0 sort.Val) (record { name = name_A; args = ((Number (pos 1)) ∷ []) })) ∷ []) }) }) ∷ []) }) (record { is_void = true; name = name_f; params = (name_p ∷ []); vars = ((name_v, sort.Val) ∷ (name_w, sort.Val) ∷ []); pre = (record { opened = []; facts = ([]); locals = ((name_p, (Var 0 sort.Val)) ∷ []); items = ((Data (Number (pos 64)) (Var 0 sort.Val) (Of2 binary.Cons Undef Nil)) ∷ []) }); post = (record { opened = []; facts = ([]); locals = []; items = ((Lock (Number (pos 64)) (Var 0 sort.Val) (record { name = name_A; args = ((Number (pos 1)) ∷ []) })) ∷ (Holds (Var 0 sort.Val) (record { name = name_A; args = ((Number (pos 1)) ∷ []) })) ∷ []) }) }) (record { temps = (name_p ∷ []); body = (c.Then (c.OnLock lock.Make (c.Temp 0)) (c.Then (c.Return None) c.End)) }) (s.Then 1 (s.MakeLock 2 (record { name = name_A; args = ((Number (pos 1)) ∷ []) }) ([]) ([])) s.NoBlock (s.Then 2 (s.Return ([]) ([]) ([])) s.NoBlock s.End)) ≡ (RefusedAt 1 16 1)
unfolding computing
conditions_354 = refl

conditions_355 : body_verdict (record { predicates = ((record { name = name_A; args = (sort.Int ∷ []); cases = ((record { opened = []; facts = ([]); locals = []; items = ([]) }) ∷ []) }) ∷ []); specs = ((record { is_void = true; name = name_f; params = (name_p ∷ []); vars = ((name_v, sort.Val) ∷ (name_w, sort.Val) ∷ []); pre = (record { opened = []; facts = ([]); locals = ((name_p, (Var 0 sort.Val)) ∷ []); items = ((Holds (Var 0 sort.Val) (record { name = name_A; args = ((Number (pos 1)) ∷ []) })) ∷ (Pred (record { name = name_A; args = ((Number (pos 1)) ∷ []) })) ∷ (Holds (Var 1 sort.Val) (record { name = name_A; args = ((Number (pos 1)) ∷ []) })) ∷ []) }); post = (record { opened = []; facts = ([]); locals = []; items = ((Holds (Var 1 sort.Val) (record { name = name_A; args = ((Number (pos 1)) ∷ []) })) ∷ []) }) }) ∷ []) }) (record { is_void = true; name = name_f; params = (name_p ∷ []); vars = ((name_v, sort.Val) ∷ (name_w, sort.Val) ∷ []); pre = (record { opened = []; facts = ([]); locals = ((name_p, (Var 0 sort.Val)) ∷ []); items = ((Holds (Var 0 sort.Val) (record { name = name_A; args = ((Number (pos 1)) ∷ []) })) ∷ (Pred (record { name = name_A; args = ((Number (pos 1)) ∷ []) })) ∷ (Holds (Var 1 sort.Val) (record { name = name_A; args = ((Number (pos 1)) ∷ []) })) ∷ []) }); post = (record { opened = []; facts = ([]); locals = []; items = ((Holds (Var 1 sort.Val) (record { name = name_A; args = ((Number (pos 1)) ∷ []) })) ∷ []) }) }) (record { temps = (name_p ∷ []); body = (c.Then (c.OnLock lock.Release (c.Temp 0)) (c.Then (c.Return None) c.End)) }) (s.Then 1 (s.Release 0 2 ([])) s.NoBlock (s.Then 2 (s.Return ([]) ([]) ([])) s.NoBlock s.End)) ≡ (RefusedAt 1 18 1)
unfolding computing
conditions_355 = refl

conditions_356 : body_verdict (record { predicates = ((record { name = name_A; args = (sort.Int ∷ []); cases = ((record { opened = []; facts = ([]); locals = []; items = ([]) }) ∷ []) }) ∷ []); specs = ((record { is_void = true; name = name_f; params = (name_p ∷ []); vars = ((name_v, sort.Val) ∷ (name_w, sort.Val) ∷ []); pre = (record { opened = []; facts = ([]); locals = ((name_p, (Var 0 sort.Val)) ∷ []); items = ((Lock (Number (pos 64)) (Var 0 sort.Val) (record { name = name_A; args = ((Number (pos 1)) ∷ []) })) ∷ (Holds (Var 0 sort.Val) (record { name = name_A; args = ((Number (pos 1)) ∷ []) })) ∷ (Holds (Var 1 sort.Val) (record { name = name_A; args = ((Number (pos 1)) ∷ []) })) ∷ []) }); post = (record { opened = []; facts = ([]); locals = []; items = ((Holds (Var 1 sort.Val) (record { name = name_A; args = ((Number (pos 1)) ∷ []) })) ∷ (Data (Number (pos 64)) (Var 0 sort.Val) (Of2 binary.Cons Undef Nil)) ∷ []) }) }) ∷ []) }) (record { is_void = true; name = name_f; params = (name_p ∷ []); vars = ((name_v, sort.Val) ∷ (name_w, sort.Val) ∷ []); pre = (record { opened = []; facts = ([]); locals = ((name_p, (Var 0 sort.Val)) ∷ []); items = ((Lock (Number (pos 64)) (Var 0 sort.Val) (record { name = name_A; args = ((Number (pos 1)) ∷ []) })) ∷ (Holds (Var 0 sort.Val) (record { name = name_A; args = ((Number (pos 1)) ∷ []) })) ∷ (Holds (Var 1 sort.Val) (record { name = name_A; args = ((Number (pos 1)) ∷ []) })) ∷ []) }); post = (record { opened = []; facts = ([]); locals = []; items = ((Holds (Var 1 sort.Val) (record { name = name_A; args = ((Number (pos 1)) ∷ []) })) ∷ (Data (Number (pos 64)) (Var 0 sort.Val) (Of2 binary.Cons Undef Nil)) ∷ []) }) }) (record { temps = (name_p ∷ []); body = (c.Then (c.OnLock lock.Free (c.Temp 0)) (c.Then (c.Return None) c.End)) }) (s.Then 1 (s.FreeLock 0 2 ([]) ([])) s.NoBlock (s.Then 2 (s.Return ([]) ([]) ([])) s.NoBlock s.End)) ≡ (RefusedAt 1 19 1)
unfolding computing
conditions_356 = refl

conditions_357 : body_verdict (record { predicates = ((record { name = name_A; args = (sort.Int ∷ []); cases = ((record { opened = []; facts = ([]); locals = []; items = ([]) }) ∷ []) }) ∷ []); specs = ((record { is_void = true; name = name_f; params = (name_p ∷ []); vars = ((name_v, sort.Val) ∷ (name_w, sort.Val) ∷ []); pre = (record { opened = []; facts = ([]); locals = ((name_p, (Var 0 sort.Val)) ∷ []); items = ((Holds (Var 0 sort.Val) (record { name = name_A; args = ((Number (pos 1)) ∷ []) })) ∷ (Pred (record { name = name_A; args = ((Number (pos 1)) ∷ []) })) ∷ (Holds (Var 1 sort.Val) (record { name = name_A; args = ((Number (pos 1)) ∷ []) })) ∷ []) }); post = (record { opened = []; facts = ([]); locals = []; items = ((Holds (Var 1 sort.Val) (record { name = name_A; args = ((Number (pos 1)) ∷ []) })) ∷ []) }) }) ∷ []) }) (record { is_void = true; name = name_f; params = (name_p ∷ []); vars = ((name_v, sort.Val) ∷ (name_w, sort.Val) ∷ []); pre = (record { opened = []; facts = ([]); locals = ((name_p, (Var 0 sort.Val)) ∷ []); items = ((Holds (Var 0 sort.Val) (record { name = name_A; args = ((Number (pos 1)) ∷ []) })) ∷ (Pred (record { name = name_A; args = ((Number (pos 1)) ∷ []) })) ∷ (Holds (Var 1 sort.Val) (record { name = name_A; args = ((Number (pos 1)) ∷ []) })) ∷ []) }); post = (record { opened = []; facts = ([]); locals = []; items = ((Holds (Var 1 sort.Val) (record { name = name_A; args = ((Number (pos 1)) ∷ []) })) ∷ []) }) }) (record { temps = (name_p ∷ []); body = (c.Then (c.OnLock lock.Release (c.Temp 0)) (c.Then (c.Return None) c.End)) }) (s.Then 1 (s.Release 0 1 (0 ∷ [])) s.NoBlock (s.Then 2 (s.Return ([]) ([]) ([])) s.NoBlock s.End)) ≡ (RefusedAt 1 18 1)
unfolding computing
conditions_357 = refl

conditions_358 : body_verdict (record { predicates = ((record { name = name_A; args = (sort.Int ∷ []); cases = ((record { opened = []; facts = ([]); locals = []; items = ([]) }) ∷ []) }) ∷ []); specs = ((record { is_void = true; name = name_f; params = (name_p ∷ []); vars = ((name_v, sort.Val) ∷ (name_w, sort.Val) ∷ []); pre = (record { opened = []; facts = ([]); locals = ((name_p, (Var 0 sort.Val)) ∷ []); items = ((Lock (Number (pos 64)) (Var 0 sort.Val) (record { name = name_A; args = ((Number (pos 1)) ∷ []) })) ∷ (Holds (Var 0 sort.Val) (record { name = name_A; args = ((Number (pos 1)) ∷ []) })) ∷ (Holds (Var 1 sort.Val) (record { name = name_A; args = ((Number (pos 1)) ∷ []) })) ∷ []) }); post = (record { opened = []; facts = ([]); locals = []; items = ((Holds (Var 1 sort.Val) (record { name = name_A; args = ((Number (pos 1)) ∷ []) })) ∷ (Data (Number (pos 64)) (Var 0 sort.Val) (Of2 binary.Cons Undef Nil)) ∷ []) }) }) ∷ []) }) (record { is_void = true; name = name_f; params = (name_p ∷ []); vars = ((name_v, sort.Val) ∷ (name_w, sort.Val) ∷ []); pre = (record { opened = []; facts = ([]); locals = ((name_p, (Var 0 sort.Val)) ∷ []); items = ((Lock (Number (pos 64)) (Var 0 sort.Val) (record { name = name_A; args = ((Number (pos 1)) ∷ []) })) ∷ (Holds (Var 0 sort.Val) (record { name = name_A; args = ((Number (pos 1)) ∷ []) })) ∷ (Holds (Var 1 sort.Val) (record { name = name_A; args = ((Number (pos 1)) ∷ []) })) ∷ []) }); post = (record { opened = []; facts = ([]); locals = []; items = ((Holds (Var 1 sort.Val) (record { name = name_A; args = ((Number (pos 1)) ∷ []) })) ∷ (Data (Number (pos 64)) (Var 0 sort.Val) (Of2 binary.Cons Undef Nil)) ∷ []) }) }) (record { temps = (name_p ∷ []); body = (c.Then (c.OnLock lock.Free (c.Temp 0)) (c.Then (c.Return None) c.End)) }) (s.Then 1 (s.FreeLock 0 1 (0 ∷ []) ([])) s.NoBlock (s.Then 2 (s.Return ([]) ([]) ([])) s.NoBlock s.End)) ≡ (RefusedAt 1 19 1)
unfolding computing
conditions_358 = refl

conditions_359 : body_verdict (record { predicates = ((record { name = name_A; args = (sort.Int ∷ []); cases = ((record { opened = []; facts = ([]); locals = []; items = ([]) }) ∷ []) }) ∷ []); specs = ((record { is_void = true; name = name_f; params = (name_p ∷ name_i ∷ []); vars = ((name_v, sort.Val) ∷ (name_a, sort.Int) ∷ []); pre = (record { opened = []; facts = ([]); locals = ((name_p, (Var 0 sort.Val)) ∷ (name_i, (Of unary.Vi (Var 1 sort.Int))) ∷ []); items = ((Lock (Number (pos 64)) (Of2 binary.Off (Var 0 sort.Val) (Var 1 sort.Int)) (record { name = name_A; args = ((Number (pos 1)) ∷ []) })) ∷ []) }); post = (record { opened = []; facts = ([]); locals = []; items = ((Lock (Number (pos 64)) (Of2 binary.Off (Var 0 sort.Val) (Var 1 sort.Int)) (record { name = name_A; args = ((Number (pos 1)) ∷ []) })) ∷ (Holds (Of2 binary.Off (Var 0 sort.Val) (Var 1 sort.Int)) (record { name = name_A; args = ((Number (pos 1)) ∷ []) })) ∷ (Pred (record { name = name_A; args = ((Number (pos 1)) ∷ []) })) ∷ []) }) }) ∷ []) }) (record { is_void = true; name = name_f; params = (name_p ∷ name_i ∷ []); vars = ((name_v, sort.Val) ∷ (name_a, sort.Int) ∷ []); pre = (record { opened = []; facts = ([]); locals = ((name_p, (Var 0 sort.Val)) ∷ (name_i, (Of unary.Vi (Var 1 sort.Int))) ∷ []); items = ((Lock (Number (pos 64)) (Of2 binary.Off (Var 0 sort.Val) (Var 1 sort.Int)) (record { name = name_A; args = ((Number (pos 1)) ∷ []) })) ∷ []) }); post = (record { opened = []; facts = ([]); locals = []; items = ((Lock (Number (pos 64)) (Of2 binary.Off (Var 0 sort.Val) (Var 1 sort.Int)) (record { name = name_A; args = ((Number (pos 1)) ∷ []) })) ∷ (Holds (Of2 binary.Off (Var 0 sort.Val) (Var 1 sort.Int)) (record { name = name_A; args = ((Number (pos 1)) ∷ []) })) ∷ (Pred (record { name = name_A; args = ((Number (pos 1)) ∷ []) })) ∷ []) }) }) (record { temps = (name_p ∷ name_i ∷ []); body = (c.Then (c.OnLock lock.Acquire (c.Address (root.Temp 0) (c.Index kind.Signed (c.Temp 1) c.Here))) (c.Then (c.Return None) c.End)) }) (s.Then 1 (s.Acquire 0 ([])) s.NoBlock (s.Then 2 (s.Return ([]) ([]) ([])) s.NoBlock s.End)) ≡ (RefusedAt 1 17 2)
unfolding computing
conditions_359 = refl

conditions_360 : body_verdict (record { predicates = ((record { name = name_A; args = (sort.Int ∷ []); cases = ((record { opened = []; facts = ([]); locals = []; items = ([]) }) ∷ []) }) ∷ []); specs = ((record { is_void = true; name = name_f; params = (name_p ∷ name_i ∷ []); vars = ((name_v, sort.Val) ∷ (name_a, sort.Int) ∷ []); pre = (record { opened = []; facts = ([]); locals = ((name_p, (Var 0 sort.Val)) ∷ (name_i, (Of unary.Vi (Var 1 sort.Int))) ∷ []); items = ((Holds (Of2 binary.Off (Var 0 sort.Val) (Var 1 sort.Int)) (record { name = name_A; args = ((Number (pos 1)) ∷ []) })) ∷ (Pred (record { name = name_A; args = ((Number (pos 1)) ∷ []) })) ∷ []) }); post = (record { opened = []; facts = ([]); locals = []; items = ([]) }) }) ∷ []) }) (record { is_void = true; name = name_f; params = (name_p ∷ name_i ∷ []); vars = ((name_v, sort.Val) ∷ (name_a, sort.Int) ∷ []); pre = (record { opened = []; facts = ([]); locals = ((name_p, (Var 0 sort.Val)) ∷ (name_i, (Of unary.Vi (Var 1 sort.Int))) ∷ []); items = ((Holds (Of2 binary.Off (Var 0 sort.Val) (Var 1 sort.Int)) (record { name = name_A; args = ((Number (pos 1)) ∷ []) })) ∷ (Pred (record { name = name_A; args = ((Number (pos 1)) ∷ []) })) ∷ []) }); post = (record { opened = []; facts = ([]); locals = []; items = ([]) }) }) (record { temps = (name_p ∷ name_i ∷ []); body = (c.Then (c.OnLock lock.Release (c.Address (root.Temp 0) (c.Index kind.Signed (c.Temp 1) c.Here))) (c.Then (c.Return None) c.End)) }) (s.Then 1 (s.Release 0 1 ([])) s.NoBlock (s.Then 2 (s.Return ([]) ([]) ([])) s.NoBlock s.End)) ≡ (RefusedAt 1 18 2)
unfolding computing
conditions_360 = refl

conditions_361 : body_verdict (record { predicates = ((record { name = name_A; args = (sort.Int ∷ []); cases = ((record { opened = []; facts = ([]); locals = []; items = ([]) }) ∷ []) }) ∷ []); specs = ((record { is_void = true; name = name_f; params = (name_p ∷ name_i ∷ []); vars = ((name_v, sort.Val) ∷ (name_a, sort.Int) ∷ []); pre = (record { opened = []; facts = ([]); locals = ((name_p, (Var 0 sort.Val)) ∷ (name_i, (Of unary.Vi (Var 1 sort.Int))) ∷ []); items = ((Lock (Number (pos 64)) (Of2 binary.Off (Var 0 sort.Val) (Var 1 sort.Int)) (record { name = name_A; args = ((Number (pos 1)) ∷ []) })) ∷ (Holds (Of2 binary.Off (Var 0 sort.Val) (Var 1 sort.Int)) (record { name = name_A; args = ((Number (pos 1)) ∷ []) })) ∷ []) }); post = (record { opened = []; facts = ([]); locals = []; items = ((Data (Number (pos 64)) (Of2 binary.Off (Var 0 sort.Val) (Var 1 sort.Int)) (Of2 binary.Cons Undef Nil)) ∷ []) }) }) ∷ []) }) (record { is_void = true; name = name_f; params = (name_p ∷ name_i ∷ []); vars = ((name_v, sort.Val) ∷ (name_a, sort.Int) ∷ []); pre = (record { opened = []; facts = ([]); locals = ((name_p, (Var 0 sort.Val)) ∷ (name_i, (Of unary.Vi (Var 1 sort.Int))) ∷ []); items = ((Lock (Number (pos 64)) (Of2 binary.Off (Var 0 sort.Val) (Var 1 sort.Int)) (record { name = name_A; args = ((Number (pos 1)) ∷ []) })) ∷ (Holds (Of2 binary.Off (Var 0 sort.Val) (Var 1 sort.Int)) (record { name = name_A; args = ((Number (pos 1)) ∷ []) })) ∷ []) }); post = (record { opened = []; facts = ([]); locals = []; items = ((Data (Number (pos 64)) (Of2 binary.Off (Var 0 sort.Val) (Var 1 sort.Int)) (Of2 binary.Cons Undef Nil)) ∷ []) }) }) (record { temps = (name_p ∷ name_i ∷ []); body = (c.Then (c.OnLock lock.Free (c.Address (root.Temp 0) (c.Index kind.Signed (c.Temp 1) c.Here))) (c.Then (c.Return None) c.End)) }) (s.Then 1 (s.FreeLock 0 1 ([]) ([])) s.NoBlock (s.Then 2 (s.Return ([]) ([]) ([])) s.NoBlock s.End)) ≡ (RefusedAt 1 19 2)
unfolding computing
conditions_361 = refl

conditions_362 : body_verdict (record { predicates = ((record { name = name_A; args = (sort.Int ∷ []); cases = ((record { opened = []; facts = ([]); locals = []; items = ([]) }) ∷ []) }) ∷ []); specs = ((record { is_void = true; name = name_f; params = (name_p ∷ name_i ∷ []); vars = ((name_v, sort.Val) ∷ (name_a, sort.Int) ∷ []); pre = (record { opened = []; facts = ([]); locals = ((name_p, (Var 0 sort.Val)) ∷ (name_i, (Of unary.Vi (Var 1 sort.Int))) ∷ []); items = ((Lock (Number (pos 64)) (Of2 binary.Off (Var 0 sort.Val) (Var 1 sort.Int)) (record { name = name_A; args = ((Number (pos 1)) ∷ []) })) ∷ []) }); post = (record { opened = []; facts = ([]); locals = []; items = ((Lock (Number (pos 64)) (Of2 binary.Off (Var 0 sort.Val) (Var 1 sort.Int)) (record { name = name_A; args = ((Number (pos 1)) ∷ []) })) ∷ (Holds (Of2 binary.Off (Var 0 sort.Val) (Var 1 sort.Int)) (record { name = name_A; args = ((Number (pos 1)) ∷ []) })) ∷ (Pred (record { name = name_A; args = ((Number (pos 1)) ∷ []) })) ∷ []) }) }) ∷ []) }) (record { is_void = true; name = name_f; params = (name_p ∷ name_i ∷ []); vars = ((name_v, sort.Val) ∷ (name_a, sort.Int) ∷ []); pre = (record { opened = []; facts = ([]); locals = ((name_p, (Var 0 sort.Val)) ∷ (name_i, (Of unary.Vi (Var 1 sort.Int))) ∷ []); items = ((Lock (Number (pos 64)) (Of2 binary.Off (Var 0 sort.Val) (Var 1 sort.Int)) (record { name = name_A; args = ((Number (pos 1)) ∷ []) })) ∷ []) }); post = (record { opened = []; facts = ([]); locals = []; items = ((Lock (Number (pos 64)) (Of2 binary.Off (Var 0 sort.Val) (Var 1 sort.Int)) (record { name = name_A; args = ((Number (pos 1)) ∷ []) })) ∷ (Holds (Of2 binary.Off (Var 0 sort.Val) (Var 1 sort.Int)) (record { name = name_A; args = ((Number (pos 1)) ∷ []) })) ∷ (Pred (record { name = name_A; args = ((Number (pos 1)) ∷ []) })) ∷ []) }) }) (record { temps = (name_p ∷ name_i ∷ []); body = (c.Then (c.OnLock lock.Acquire (c.Address (root.Temp 0) (c.Index kind.Signed (c.Temp 1) c.Here))) (c.Then (c.Return None) c.End)) }) (s.Then 1 (s.Acquire 0 (0 ∷ [])) s.NoBlock (s.Then 2 (s.Return ([]) ([]) ([])) s.NoBlock s.End)) ≡ (RefusedAt 1 17 3)
unfolding computing
conditions_362 = refl

conditions_363 : body_verdict (record { predicates = ((record { name = name_A; args = (sort.Int ∷ []); cases = ((record { opened = []; facts = ([]); locals = []; items = ([]) }) ∷ []) }) ∷ []); specs = ((record { is_void = true; name = name_f; params = (name_p ∷ name_i ∷ []); vars = ((name_v, sort.Val) ∷ (name_a, sort.Int) ∷ []); pre = (record { opened = []; facts = ([]); locals = ((name_p, (Var 0 sort.Val)) ∷ (name_i, (Of unary.Vi (Var 1 sort.Int))) ∷ []); items = ((Holds (Of2 binary.Off (Var 0 sort.Val) (Var 1 sort.Int)) (record { name = name_A; args = ((Number (pos 1)) ∷ []) })) ∷ (Pred (record { name = name_A; args = ((Number (pos 1)) ∷ []) })) ∷ []) }); post = (record { opened = []; facts = ([]); locals = []; items = ([]) }) }) ∷ []) }) (record { is_void = true; name = name_f; params = (name_p ∷ name_i ∷ []); vars = ((name_v, sort.Val) ∷ (name_a, sort.Int) ∷ []); pre = (record { opened = []; facts = ([]); locals = ((name_p, (Var 0 sort.Val)) ∷ (name_i, (Of unary.Vi (Var 1 sort.Int))) ∷ []); items = ((Holds (Of2 binary.Off (Var 0 sort.Val) (Var 1 sort.Int)) (record { name = name_A; args = ((Number (pos 1)) ∷ []) })) ∷ (Pred (record { name = name_A; args = ((Number (pos 1)) ∷ []) })) ∷ []) }); post = (record { opened = []; facts = ([]); locals = []; items = ([]) }) }) (record { temps = (name_p ∷ name_i ∷ []); body = (c.Then (c.OnLock lock.Release (c.Address (root.Temp 0) (c.Index kind.Signed (c.Temp 1) c.Here))) (c.Then (c.Return None) c.End)) }) (s.Then 1 (s.Release 0 1 (0 ∷ [])) s.NoBlock (s.Then 2 (s.Return ([]) ([]) ([])) s.NoBlock s.End)) ≡ (RefusedAt 1 18 2)
unfolding computing
conditions_363 = refl

conditions_364 : body_verdict (record { predicates = ((record { name = name_A; args = (sort.Int ∷ []); cases = ((record { opened = []; facts = ([]); locals = []; items = ([]) }) ∷ []) }) ∷ []); specs = ((record { is_void = true; name = name_f; params = (name_p ∷ name_i ∷ []); vars = ((name_v, sort.Val) ∷ (name_a, sort.Int) ∷ []); pre = (record { opened = []; facts = ([]); locals = ((name_p, (Var 0 sort.Val)) ∷ (name_i, (Of unary.Vi (Var 1 sort.Int))) ∷ []); items = ((Lock (Number (pos 64)) (Of2 binary.Off (Var 0 sort.Val) (Var 1 sort.Int)) (record { name = name_A; args = ((Number (pos 1)) ∷ []) })) ∷ (Holds (Of2 binary.Off (Var 0 sort.Val) (Var 1 sort.Int)) (record { name = name_A; args = ((Number (pos 1)) ∷ []) })) ∷ []) }); post = (record { opened = []; facts = ([]); locals = []; items = ((Data (Number (pos 64)) (Of2 binary.Off (Var 0 sort.Val) (Var 1 sort.Int)) (Of2 binary.Cons Undef Nil)) ∷ []) }) }) ∷ []) }) (record { is_void = true; name = name_f; params = (name_p ∷ name_i ∷ []); vars = ((name_v, sort.Val) ∷ (name_a, sort.Int) ∷ []); pre = (record { opened = []; facts = ([]); locals = ((name_p, (Var 0 sort.Val)) ∷ (name_i, (Of unary.Vi (Var 1 sort.Int))) ∷ []); items = ((Lock (Number (pos 64)) (Of2 binary.Off (Var 0 sort.Val) (Var 1 sort.Int)) (record { name = name_A; args = ((Number (pos 1)) ∷ []) })) ∷ (Holds (Of2 binary.Off (Var 0 sort.Val) (Var 1 sort.Int)) (record { name = name_A; args = ((Number (pos 1)) ∷ []) })) ∷ []) }); post = (record { opened = []; facts = ([]); locals = []; items = ((Data (Number (pos 64)) (Of2 binary.Off (Var 0 sort.Val) (Var 1 sort.Int)) (Of2 binary.Cons Undef Nil)) ∷ []) }) }) (record { temps = (name_p ∷ name_i ∷ []); body = (c.Then (c.OnLock lock.Free (c.Address (root.Temp 0) (c.Index kind.Signed (c.Temp 1) c.Here))) (c.Then (c.Return None) c.End)) }) (s.Then 1 (s.FreeLock 0 1 (0 ∷ []) ([])) s.NoBlock (s.Then 2 (s.Return ([]) ([]) ([])) s.NoBlock s.End)) ≡ (RefusedAt 1 19 3)
unfolding computing
conditions_364 = refl

conditions_365 : body_verdict (record { predicates = ((record { name = name_A; args = (sort.Int ∷ []); cases = ((record { opened = []; facts = ([]); locals = []; items = ([]) }) ∷ []) }) ∷ []); specs = ((record { is_void = true; name = name_f; params = (name_p ∷ name_i ∷ []); vars = ((name_v, sort.Val) ∷ (name_a, sort.Int) ∷ []); pre = (record { opened = []; facts = ([]); locals = ((name_p, (Var 0 sort.Val)) ∷ (name_i, (Of unary.Vi (Var 1 sort.Int))) ∷ []); items = ((Lock (Number (pos 64)) (Of2 binary.Off (Var 0 sort.Val) (Var 1 sort.Int)) (record { name = name_A; args = ((Number (pos 1)) ∷ []) })) ∷ []) }); post = (record { opened = []; facts = ([]); locals = []; items = ((Lock (Number (pos 64)) (Of2 binary.Off (Var 0 sort.Val) (Var 1 sort.Int)) (record { name = name_A; args = ((Number (pos 1)) ∷ []) })) ∷ (Holds (Of2 binary.Off (Var 0 sort.Val) (Var 1 sort.Int)) (record { name = name_A; args = ((Number (pos 1)) ∷ []) })) ∷ (Pred (record { name = name_A; args = ((Number (pos 1)) ∷ []) })) ∷ []) }) }) ∷ []) }) (record { is_void = true; name = name_f; params = (name_p ∷ name_i ∷ []); vars = ((name_v, sort.Val) ∷ (name_a, sort.Int) ∷ []); pre = (record { opened = []; facts = ([]); locals = ((name_p, (Var 0 sort.Val)) ∷ (name_i, (Of unary.Vi (Var 1 sort.Int))) ∷ []); items = ((Lock (Number (pos 64)) (Of2 binary.Off (Var 0 sort.Val) (Var 1 sort.Int)) (record { name = name_A; args = ((Number (pos 1)) ∷ []) })) ∷ []) }); post = (record { opened = []; facts = ([]); locals = []; items = ((Lock (Number (pos 64)) (Of2 binary.Off (Var 0 sort.Val) (Var 1 sort.Int)) (record { name = name_A; args = ((Number (pos 1)) ∷ []) })) ∷ (Holds (Of2 binary.Off (Var 0 sort.Val) (Var 1 sort.Int)) (record { name = name_A; args = ((Number (pos 1)) ∷ []) })) ∷ (Pred (record { name = name_A; args = ((Number (pos 1)) ∷ []) })) ∷ []) }) }) (record { temps = (name_p ∷ name_i ∷ []); body = (c.Then (c.OnLock lock.Acquire (c.Address (root.Temp 0) (c.Index kind.Signed (c.Temp 1) c.Here))) (c.Then (c.Return None) c.End)) }) (s.Then 1 (s.Acquire 0 (1 ∷ [])) s.NoBlock (s.Then 2 (s.Return ([]) ([]) ([])) s.NoBlock s.End)) ≡ (RefusedAt 1 17 2)
unfolding computing
conditions_365 = refl

conditions_366 : body_verdict (record { predicates = ((record { name = name_A; args = (sort.Int ∷ []); cases = ((record { opened = []; facts = ([]); locals = []; items = ([]) }) ∷ []) }) ∷ []); specs = ((record { is_void = true; name = name_f; params = (name_p ∷ name_i ∷ []); vars = ((name_v, sort.Val) ∷ (name_a, sort.Int) ∷ []); pre = (record { opened = []; facts = ([]); locals = ((name_p, (Var 0 sort.Val)) ∷ (name_i, (Of unary.Vi (Var 1 sort.Int))) ∷ []); items = ((Holds (Of2 binary.Off (Var 0 sort.Val) (Var 1 sort.Int)) (record { name = name_A; args = ((Number (pos 1)) ∷ []) })) ∷ (Pred (record { name = name_A; args = ((Number (pos 1)) ∷ []) })) ∷ []) }); post = (record { opened = []; facts = ([]); locals = []; items = ([]) }) }) ∷ []) }) (record { is_void = true; name = name_f; params = (name_p ∷ name_i ∷ []); vars = ((name_v, sort.Val) ∷ (name_a, sort.Int) ∷ []); pre = (record { opened = []; facts = ([]); locals = ((name_p, (Var 0 sort.Val)) ∷ (name_i, (Of unary.Vi (Var 1 sort.Int))) ∷ []); items = ((Holds (Of2 binary.Off (Var 0 sort.Val) (Var 1 sort.Int)) (record { name = name_A; args = ((Number (pos 1)) ∷ []) })) ∷ (Pred (record { name = name_A; args = ((Number (pos 1)) ∷ []) })) ∷ []) }); post = (record { opened = []; facts = ([]); locals = []; items = ([]) }) }) (record { temps = (name_p ∷ name_i ∷ []); body = (c.Then (c.OnLock lock.Release (c.Address (root.Temp 0) (c.Index kind.Signed (c.Temp 1) c.Here))) (c.Then (c.Return None) c.End)) }) (s.Then 1 (s.Release 0 1 (1 ∷ [])) s.NoBlock (s.Then 2 (s.Return ([]) ([]) ([])) s.NoBlock s.End)) ≡ (RefusedAt 1 18 2)
unfolding computing
conditions_366 = refl

conditions_367 : body_verdict (record { predicates = ((record { name = name_A; args = (sort.Int ∷ []); cases = ((record { opened = []; facts = ([]); locals = []; items = ([]) }) ∷ []) }) ∷ []); specs = ((record { is_void = true; name = name_f; params = (name_p ∷ name_i ∷ []); vars = ((name_v, sort.Val) ∷ (name_a, sort.Int) ∷ []); pre = (record { opened = []; facts = ([]); locals = ((name_p, (Var 0 sort.Val)) ∷ (name_i, (Of unary.Vi (Var 1 sort.Int))) ∷ []); items = ((Lock (Number (pos 64)) (Of2 binary.Off (Var 0 sort.Val) (Var 1 sort.Int)) (record { name = name_A; args = ((Number (pos 1)) ∷ []) })) ∷ (Holds (Of2 binary.Off (Var 0 sort.Val) (Var 1 sort.Int)) (record { name = name_A; args = ((Number (pos 1)) ∷ []) })) ∷ []) }); post = (record { opened = []; facts = ([]); locals = []; items = ((Data (Number (pos 64)) (Of2 binary.Off (Var 0 sort.Val) (Var 1 sort.Int)) (Of2 binary.Cons Undef Nil)) ∷ []) }) }) ∷ []) }) (record { is_void = true; name = name_f; params = (name_p ∷ name_i ∷ []); vars = ((name_v, sort.Val) ∷ (name_a, sort.Int) ∷ []); pre = (record { opened = []; facts = ([]); locals = ((name_p, (Var 0 sort.Val)) ∷ (name_i, (Of unary.Vi (Var 1 sort.Int))) ∷ []); items = ((Lock (Number (pos 64)) (Of2 binary.Off (Var 0 sort.Val) (Var 1 sort.Int)) (record { name = name_A; args = ((Number (pos 1)) ∷ []) })) ∷ (Holds (Of2 binary.Off (Var 0 sort.Val) (Var 1 sort.Int)) (record { name = name_A; args = ((Number (pos 1)) ∷ []) })) ∷ []) }); post = (record { opened = []; facts = ([]); locals = []; items = ((Data (Number (pos 64)) (Of2 binary.Off (Var 0 sort.Val) (Var 1 sort.Int)) (Of2 binary.Cons Undef Nil)) ∷ []) }) }) (record { temps = (name_p ∷ name_i ∷ []); body = (c.Then (c.OnLock lock.Free (c.Address (root.Temp 0) (c.Index kind.Signed (c.Temp 1) c.Here))) (c.Then (c.Return None) c.End)) }) (s.Then 1 (s.FreeLock 0 1 (1 ∷ []) ([])) s.NoBlock (s.Then 2 (s.Return ([]) ([]) ([])) s.NoBlock s.End)) ≡ (RefusedAt 1 19 2)
unfolding computing
conditions_367 = refl

conditions_368 : body_verdict (record { predicates = ((record { name = name_A; args = (sort.Int ∷ []); cases = ((record { opened = []; facts = ([]); locals = []; items = ([]) }) ∷ []) }) ∷ []); specs = ((record { is_void = true; name = name_f; params = (name_p ∷ name_i ∷ []); vars = ((name_v, sort.Val) ∷ (name_a, sort.Int) ∷ []); pre = (record { opened = []; facts = ((Rel relation.Le (Number (pos 0)) (Var 1 sort.Int)) ∷ (Rel relation.Le (Var 1 sort.Int) (Number (pos 9))) ∷ []); locals = ((name_p, (Var 0 sort.Val)) ∷ (name_i, (Of unary.Vi (Var 1 sort.Int))) ∷ []); items = ((Lock (Number (pos 64)) (Of2 binary.Off (Var 0 sort.Val) (Var 1 sort.Int)) (record { name = name_A; args = ((Number (pos 1)) ∷ []) })) ∷ []) }); post = (record { opened = []; facts = ([]); locals = []; items = ((Lock (Number (pos 64)) (Of2 binary.Off (Var 0 sort.Val) (Var 1 sort.Int)) (record { name = name_A; args = ((Number (pos 1)) ∷ []) })) ∷ (Holds (Of2 binary.Off (Var 0 sort.Val) (Var 1 sort.Int)) (record { name = name_A; args = ((Number (pos 1)) ∷ []) })) ∷ (Pred (record { name = name_A; args = ((Number (pos 1)) ∷ []) })) ∷ []) }) }) ∷ []) }) (record { is_void = true; name = name_f; params = (name_p ∷ name_i ∷ []); vars = ((name_v, sort.Val) ∷ (name_a, sort.Int) ∷ []); pre = (record { opened = []; facts = ((Rel relation.Le (Number (pos 0)) (Var 1 sort.Int)) ∷ (Rel relation.Le (Var 1 sort.Int) (Number (pos 9))) ∷ []); locals = ((name_p, (Var 0 sort.Val)) ∷ (name_i, (Of unary.Vi (Var 1 sort.Int))) ∷ []); items = ((Lock (Number (pos 64)) (Of2 binary.Off (Var 0 sort.Val) (Var 1 sort.Int)) (record { name = name_A; args = ((Number (pos 1)) ∷ []) })) ∷ []) }); post = (record { opened = []; facts = ([]); locals = []; items = ((Lock (Number (pos 64)) (Of2 binary.Off (Var 0 sort.Val) (Var 1 sort.Int)) (record { name = name_A; args = ((Number (pos 1)) ∷ []) })) ∷ (Holds (Of2 binary.Off (Var 0 sort.Val) (Var 1 sort.Int)) (record { name = name_A; args = ((Number (pos 1)) ∷ []) })) ∷ (Pred (record { name = name_A; args = ((Number (pos 1)) ∷ []) })) ∷ []) }) }) (record { temps = (name_p ∷ name_i ∷ []); body = (c.Then (c.OnLock lock.Acquire (c.Address (root.Temp 0) (c.Index kind.Signed (c.Temp 1) c.Here))) (c.Then (c.Return None) c.End)) }) (s.Then 1 (s.Acquire 0 ([])) s.NoBlock (s.Then 2 (s.Return ([]) ([]) ([])) s.NoBlock s.End)) ≡ (RefusedAt 1 17 2)
unfolding computing
conditions_368 = refl

conditions_369 : body_verdict (record { predicates = ((record { name = name_A; args = (sort.Int ∷ []); cases = ((record { opened = []; facts = ([]); locals = []; items = ([]) }) ∷ []) }) ∷ []); specs = ((record { is_void = true; name = name_f; params = (name_p ∷ name_i ∷ []); vars = ((name_v, sort.Val) ∷ (name_a, sort.Int) ∷ []); pre = (record { opened = []; facts = ((Rel relation.Le (Number (pos 0)) (Var 1 sort.Int)) ∷ (Rel relation.Le (Var 1 sort.Int) (Number (pos 9))) ∷ []); locals = ((name_p, (Var 0 sort.Val)) ∷ (name_i, (Of unary.Vi (Var 1 sort.Int))) ∷ []); items = ((Holds (Of2 binary.Off (Var 0 sort.Val) (Var 1 sort.Int)) (record { name = name_A; args = ((Number (pos 1)) ∷ []) })) ∷ (Pred (record { name = name_A; args = ((Number (pos 1)) ∷ []) })) ∷ []) }); post = (record { opened = []; facts = ([]); locals = []; items = ([]) }) }) ∷ []) }) (record { is_void = true; name = name_f; params = (name_p ∷ name_i ∷ []); vars = ((name_v, sort.Val) ∷ (name_a, sort.Int) ∷ []); pre = (record { opened = []; facts = ((Rel relation.Le (Number (pos 0)) (Var 1 sort.Int)) ∷ (Rel relation.Le (Var 1 sort.Int) (Number (pos 9))) ∷ []); locals = ((name_p, (Var 0 sort.Val)) ∷ (name_i, (Of unary.Vi (Var 1 sort.Int))) ∷ []); items = ((Holds (Of2 binary.Off (Var 0 sort.Val) (Var 1 sort.Int)) (record { name = name_A; args = ((Number (pos 1)) ∷ []) })) ∷ (Pred (record { name = name_A; args = ((Number (pos 1)) ∷ []) })) ∷ []) }); post = (record { opened = []; facts = ([]); locals = []; items = ([]) }) }) (record { temps = (name_p ∷ name_i ∷ []); body = (c.Then (c.OnLock lock.Release (c.Address (root.Temp 0) (c.Index kind.Signed (c.Temp 1) c.Here))) (c.Then (c.Return None) c.End)) }) (s.Then 1 (s.Release 0 1 ([])) s.NoBlock (s.Then 2 (s.Return ([]) ([]) ([])) s.NoBlock s.End)) ≡ (RefusedAt 1 18 2)
unfolding computing
conditions_369 = refl

conditions_370 : body_verdict (record { predicates = ((record { name = name_A; args = (sort.Int ∷ []); cases = ((record { opened = []; facts = ([]); locals = []; items = ([]) }) ∷ []) }) ∷ []); specs = ((record { is_void = true; name = name_f; params = (name_p ∷ name_i ∷ []); vars = ((name_v, sort.Val) ∷ (name_a, sort.Int) ∷ []); pre = (record { opened = []; facts = ((Rel relation.Le (Number (pos 0)) (Var 1 sort.Int)) ∷ (Rel relation.Le (Var 1 sort.Int) (Number (pos 9))) ∷ []); locals = ((name_p, (Var 0 sort.Val)) ∷ (name_i, (Of unary.Vi (Var 1 sort.Int))) ∷ []); items = ((Lock (Number (pos 64)) (Of2 binary.Off (Var 0 sort.Val) (Var 1 sort.Int)) (record { name = name_A; args = ((Number (pos 1)) ∷ []) })) ∷ (Holds (Of2 binary.Off (Var 0 sort.Val) (Var 1 sort.Int)) (record { name = name_A; args = ((Number (pos 1)) ∷ []) })) ∷ []) }); post = (record { opened = []; facts = ([]); locals = []; items = ((Data (Number (pos 64)) (Of2 binary.Off (Var 0 sort.Val) (Var 1 sort.Int)) (Of2 binary.Cons Undef Nil)) ∷ []) }) }) ∷ []) }) (record { is_void = true; name = name_f; params = (name_p ∷ name_i ∷ []); vars = ((name_v, sort.Val) ∷ (name_a, sort.Int) ∷ []); pre = (record { opened = []; facts = ((Rel relation.Le (Number (pos 0)) (Var 1 sort.Int)) ∷ (Rel relation.Le (Var 1 sort.Int) (Number (pos 9))) ∷ []); locals = ((name_p, (Var 0 sort.Val)) ∷ (name_i, (Of unary.Vi (Var 1 sort.Int))) ∷ []); items = ((Lock (Number (pos 64)) (Of2 binary.Off (Var 0 sort.Val) (Var 1 sort.Int)) (record { name = name_A; args = ((Number (pos 1)) ∷ []) })) ∷ (Holds (Of2 binary.Off (Var 0 sort.Val) (Var 1 sort.Int)) (record { name = name_A; args = ((Number (pos 1)) ∷ []) })) ∷ []) }); post = (record { opened = []; facts = ([]); locals = []; items = ((Data (Number (pos 64)) (Of2 binary.Off (Var 0 sort.Val) (Var 1 sort.Int)) (Of2 binary.Cons Undef Nil)) ∷ []) }) }) (record { temps = (name_p ∷ name_i ∷ []); body = (c.Then (c.OnLock lock.Free (c.Address (root.Temp 0) (c.Index kind.Signed (c.Temp 1) c.Here))) (c.Then (c.Return None) c.End)) }) (s.Then 1 (s.FreeLock 0 1 ([]) ([])) s.NoBlock (s.Then 2 (s.Return ([]) ([]) ([])) s.NoBlock s.End)) ≡ (RefusedAt 1 19 2)
unfolding computing
conditions_370 = refl

conditions_371 : body_verdict (record { predicates = ((record { name = name_A; args = (sort.Int ∷ []); cases = ((record { opened = []; facts = ([]); locals = []; items = ([]) }) ∷ []) }) ∷ []); specs = ((record { is_void = true; name = name_f; params = (name_p ∷ name_i ∷ []); vars = ((name_v, sort.Val) ∷ (name_a, sort.Int) ∷ []); pre = (record { opened = []; facts = ((Rel relation.Le (Number (pos 0)) (Var 1 sort.Int)) ∷ (Rel relation.Le (Var 1 sort.Int) (Number (pos 9))) ∷ []); locals = ((name_p, (Var 0 sort.Val)) ∷ (name_i, (Of unary.Vi (Var 1 sort.Int))) ∷ []); items = ((Lock (Number (pos 64)) (Of2 binary.Off (Var 0 sort.Val) (Var 1 sort.Int)) (record { name = name_A; args = ((Number (pos 1)) ∷ []) })) ∷ []) }); post = (record { opened = []; facts = ([]); locals = []; items = ((Lock (Number (pos 64)) (Of2 binary.Off (Var 0 sort.Val) (Var 1 sort.Int)) (record { name = name_A; args = ((Number (pos 1)) ∷ []) })) ∷ (Holds (Of2 binary.Off (Var 0 sort.Val) (Var 1 sort.Int)) (record { name = name_A; args = ((Number (pos 1)) ∷ []) })) ∷ (Pred (record { name = name_A; args = ((Number (pos 1)) ∷ []) })) ∷ []) }) }) ∷ []) }) (record { is_void = true; name = name_f; params = (name_p ∷ name_i ∷ []); vars = ((name_v, sort.Val) ∷ (name_a, sort.Int) ∷ []); pre = (record { opened = []; facts = ((Rel relation.Le (Number (pos 0)) (Var 1 sort.Int)) ∷ (Rel relation.Le (Var 1 sort.Int) (Number (pos 9))) ∷ []); locals = ((name_p, (Var 0 sort.Val)) ∷ (name_i, (Of unary.Vi (Var 1 sort.Int))) ∷ []); items = ((Lock (Number (pos 64)) (Of2 binary.Off (Var 0 sort.Val) (Var 1 sort.Int)) (record { name = name_A; args = ((Number (pos 1)) ∷ []) })) ∷ []) }); post = (record { opened = []; facts = ([]); locals = []; items = ((Lock (Number (pos 64)) (Of2 binary.Off (Var 0 sort.Val) (Var 1 sort.Int)) (record { name = name_A; args = ((Number (pos 1)) ∷ []) })) ∷ (Holds (Of2 binary.Off (Var 0 sort.Val) (Var 1 sort.Int)) (record { name = name_A; args = ((Number (pos 1)) ∷ []) })) ∷ (Pred (record { name = name_A; args = ((Number (pos 1)) ∷ []) })) ∷ []) }) }) (record { temps = (name_p ∷ name_i ∷ []); body = (c.Then (c.OnLock lock.Acquire (c.Address (root.Temp 0) (c.Index kind.Signed (c.Temp 1) c.Here))) (c.Then (c.Return None) c.End)) }) (s.Then 1 (s.Acquire 0 (0 ∷ [])) s.NoBlock (s.Then 2 (s.Return ([]) ([]) ([])) s.NoBlock s.End)) ≡ (RefusedAt 1 17 3)
unfolding computing
conditions_371 = refl

conditions_372 : body_verdict (record { predicates = ((record { name = name_A; args = (sort.Int ∷ []); cases = ((record { opened = []; facts = ([]); locals = []; items = ([]) }) ∷ []) }) ∷ []); specs = ((record { is_void = true; name = name_f; params = (name_p ∷ name_i ∷ []); vars = ((name_v, sort.Val) ∷ (name_a, sort.Int) ∷ []); pre = (record { opened = []; facts = ((Rel relation.Le (Number (pos 0)) (Var 1 sort.Int)) ∷ (Rel relation.Le (Var 1 sort.Int) (Number (pos 9))) ∷ []); locals = ((name_p, (Var 0 sort.Val)) ∷ (name_i, (Of unary.Vi (Var 1 sort.Int))) ∷ []); items = ((Holds (Of2 binary.Off (Var 0 sort.Val) (Var 1 sort.Int)) (record { name = name_A; args = ((Number (pos 1)) ∷ []) })) ∷ (Pred (record { name = name_A; args = ((Number (pos 1)) ∷ []) })) ∷ []) }); post = (record { opened = []; facts = ([]); locals = []; items = ([]) }) }) ∷ []) }) (record { is_void = true; name = name_f; params = (name_p ∷ name_i ∷ []); vars = ((name_v, sort.Val) ∷ (name_a, sort.Int) ∷ []); pre = (record { opened = []; facts = ((Rel relation.Le (Number (pos 0)) (Var 1 sort.Int)) ∷ (Rel relation.Le (Var 1 sort.Int) (Number (pos 9))) ∷ []); locals = ((name_p, (Var 0 sort.Val)) ∷ (name_i, (Of unary.Vi (Var 1 sort.Int))) ∷ []); items = ((Holds (Of2 binary.Off (Var 0 sort.Val) (Var 1 sort.Int)) (record { name = name_A; args = ((Number (pos 1)) ∷ []) })) ∷ (Pred (record { name = name_A; args = ((Number (pos 1)) ∷ []) })) ∷ []) }); post = (record { opened = []; facts = ([]); locals = []; items = ([]) }) }) (record { temps = (name_p ∷ name_i ∷ []); body = (c.Then (c.OnLock lock.Release (c.Address (root.Temp 0) (c.Index kind.Signed (c.Temp 1) c.Here))) (c.Then (c.Return None) c.End)) }) (s.Then 1 (s.Release 0 1 (0 ∷ [])) s.NoBlock (s.Then 2 (s.Return ([]) ([]) ([])) s.NoBlock s.End)) ≡ (RefusedAt 1 18 2)
unfolding computing
conditions_372 = refl

conditions_373 : body_verdict (record { predicates = ((record { name = name_A; args = (sort.Int ∷ []); cases = ((record { opened = []; facts = ([]); locals = []; items = ([]) }) ∷ []) }) ∷ []); specs = ((record { is_void = true; name = name_f; params = (name_p ∷ name_i ∷ []); vars = ((name_v, sort.Val) ∷ (name_a, sort.Int) ∷ []); pre = (record { opened = []; facts = ((Rel relation.Le (Number (pos 0)) (Var 1 sort.Int)) ∷ (Rel relation.Le (Var 1 sort.Int) (Number (pos 9))) ∷ []); locals = ((name_p, (Var 0 sort.Val)) ∷ (name_i, (Of unary.Vi (Var 1 sort.Int))) ∷ []); items = ((Lock (Number (pos 64)) (Of2 binary.Off (Var 0 sort.Val) (Var 1 sort.Int)) (record { name = name_A; args = ((Number (pos 1)) ∷ []) })) ∷ (Holds (Of2 binary.Off (Var 0 sort.Val) (Var 1 sort.Int)) (record { name = name_A; args = ((Number (pos 1)) ∷ []) })) ∷ []) }); post = (record { opened = []; facts = ([]); locals = []; items = ((Data (Number (pos 64)) (Of2 binary.Off (Var 0 sort.Val) (Var 1 sort.Int)) (Of2 binary.Cons Undef Nil)) ∷ []) }) }) ∷ []) }) (record { is_void = true; name = name_f; params = (name_p ∷ name_i ∷ []); vars = ((name_v, sort.Val) ∷ (name_a, sort.Int) ∷ []); pre = (record { opened = []; facts = ((Rel relation.Le (Number (pos 0)) (Var 1 sort.Int)) ∷ (Rel relation.Le (Var 1 sort.Int) (Number (pos 9))) ∷ []); locals = ((name_p, (Var 0 sort.Val)) ∷ (name_i, (Of unary.Vi (Var 1 sort.Int))) ∷ []); items = ((Lock (Number (pos 64)) (Of2 binary.Off (Var 0 sort.Val) (Var 1 sort.Int)) (record { name = name_A; args = ((Number (pos 1)) ∷ []) })) ∷ (Holds (Of2 binary.Off (Var 0 sort.Val) (Var 1 sort.Int)) (record { name = name_A; args = ((Number (pos 1)) ∷ []) })) ∷ []) }); post = (record { opened = []; facts = ([]); locals = []; items = ((Data (Number (pos 64)) (Of2 binary.Off (Var 0 sort.Val) (Var 1 sort.Int)) (Of2 binary.Cons Undef Nil)) ∷ []) }) }) (record { temps = (name_p ∷ name_i ∷ []); body = (c.Then (c.OnLock lock.Free (c.Address (root.Temp 0) (c.Index kind.Signed (c.Temp 1) c.Here))) (c.Then (c.Return None) c.End)) }) (s.Then 1 (s.FreeLock 0 1 (0 ∷ []) ([])) s.NoBlock (s.Then 2 (s.Return ([]) ([]) ([])) s.NoBlock s.End)) ≡ (RefusedAt 1 19 3)
unfolding computing
conditions_373 = refl

conditions_374 : body_verdict (record { predicates = ((record { name = name_A; args = (sort.Int ∷ []); cases = ((record { opened = []; facts = ([]); locals = []; items = ([]) }) ∷ []) }) ∷ []); specs = ((record { is_void = true; name = name_f; params = (name_p ∷ name_i ∷ []); vars = ((name_v, sort.Val) ∷ (name_a, sort.Int) ∷ []); pre = (record { opened = []; facts = ((Rel relation.Le (Number (pos 0)) (Var 1 sort.Int)) ∷ (Rel relation.Le (Var 1 sort.Int) (Number (pos 9))) ∷ []); locals = ((name_p, (Var 0 sort.Val)) ∷ (name_i, (Of unary.Vi (Var 1 sort.Int))) ∷ []); items = ((Lock (Number (pos 64)) (Of2 binary.Off (Var 0 sort.Val) (Var 1 sort.Int)) (record { name = name_A; args = ((Number (pos 1)) ∷ []) })) ∷ []) }); post = (record { opened = []; facts = ([]); locals = []; items = ((Lock (Number (pos 64)) (Of2 binary.Off (Var 0 sort.Val) (Var 1 sort.Int)) (record { name = name_A; args = ((Number (pos 1)) ∷ []) })) ∷ (Holds (Of2 binary.Off (Var 0 sort.Val) (Var 1 sort.Int)) (record { name = name_A; args = ((Number (pos 1)) ∷ []) })) ∷ (Pred (record { name = name_A; args = ((Number (pos 1)) ∷ []) })) ∷ []) }) }) ∷ []) }) (record { is_void = true; name = name_f; params = (name_p ∷ name_i ∷ []); vars = ((name_v, sort.Val) ∷ (name_a, sort.Int) ∷ []); pre = (record { opened = []; facts = ((Rel relation.Le (Number (pos 0)) (Var 1 sort.Int)) ∷ (Rel relation.Le (Var 1 sort.Int) (Number (pos 9))) ∷ []); locals = ((name_p, (Var 0 sort.Val)) ∷ (name_i, (Of unary.Vi (Var 1 sort.Int))) ∷ []); items = ((Lock (Number (pos 64)) (Of2 binary.Off (Var 0 sort.Val) (Var 1 sort.Int)) (record { name = name_A; args = ((Number (pos 1)) ∷ []) })) ∷ []) }); post = (record { opened = []; facts = ([]); locals = []; items = ((Lock (Number (pos 64)) (Of2 binary.Off (Var 0 sort.Val) (Var 1 sort.Int)) (record { name = name_A; args = ((Number (pos 1)) ∷ []) })) ∷ (Holds (Of2 binary.Off (Var 0 sort.Val) (Var 1 sort.Int)) (record { name = name_A; args = ((Number (pos 1)) ∷ []) })) ∷ (Pred (record { name = name_A; args = ((Number (pos 1)) ∷ []) })) ∷ []) }) }) (record { temps = (name_p ∷ name_i ∷ []); body = (c.Then (c.OnLock lock.Acquire (c.Address (root.Temp 0) (c.Index kind.Signed (c.Temp 1) c.Here))) (c.Then (c.Return None) c.End)) }) (s.Then 1 (s.Acquire 0 (1 ∷ [])) s.NoBlock (s.Then 2 (s.Return ([]) ([]) ([])) s.NoBlock s.End)) ≡ (RefusedAt 1 17 2)
unfolding computing
conditions_374 = refl

conditions_375 : body_verdict (record { predicates = ((record { name = name_A; args = (sort.Int ∷ []); cases = ((record { opened = []; facts = ([]); locals = []; items = ([]) }) ∷ []) }) ∷ []); specs = ((record { is_void = true; name = name_f; params = (name_p ∷ name_i ∷ []); vars = ((name_v, sort.Val) ∷ (name_a, sort.Int) ∷ []); pre = (record { opened = []; facts = ((Rel relation.Le (Number (pos 0)) (Var 1 sort.Int)) ∷ (Rel relation.Le (Var 1 sort.Int) (Number (pos 9))) ∷ []); locals = ((name_p, (Var 0 sort.Val)) ∷ (name_i, (Of unary.Vi (Var 1 sort.Int))) ∷ []); items = ((Holds (Of2 binary.Off (Var 0 sort.Val) (Var 1 sort.Int)) (record { name = name_A; args = ((Number (pos 1)) ∷ []) })) ∷ (Pred (record { name = name_A; args = ((Number (pos 1)) ∷ []) })) ∷ []) }); post = (record { opened = []; facts = ([]); locals = []; items = ([]) }) }) ∷ []) }) (record { is_void = true; name = name_f; params = (name_p ∷ name_i ∷ []); vars = ((name_v, sort.Val) ∷ (name_a, sort.Int) ∷ []); pre = (record { opened = []; facts = ((Rel relation.Le (Number (pos 0)) (Var 1 sort.Int)) ∷ (Rel relation.Le (Var 1 sort.Int) (Number (pos 9))) ∷ []); locals = ((name_p, (Var 0 sort.Val)) ∷ (name_i, (Of unary.Vi (Var 1 sort.Int))) ∷ []); items = ((Holds (Of2 binary.Off (Var 0 sort.Val) (Var 1 sort.Int)) (record { name = name_A; args = ((Number (pos 1)) ∷ []) })) ∷ (Pred (record { name = name_A; args = ((Number (pos 1)) ∷ []) })) ∷ []) }); post = (record { opened = []; facts = ([]); locals = []; items = ([]) }) }) (record { temps = (name_p ∷ name_i ∷ []); body = (c.Then (c.OnLock lock.Release (c.Address (root.Temp 0) (c.Index kind.Signed (c.Temp 1) c.Here))) (c.Then (c.Return None) c.End)) }) (s.Then 1 (s.Release 0 1 (1 ∷ [])) s.NoBlock (s.Then 2 (s.Return ([]) ([]) ([])) s.NoBlock s.End)) ≡ (RefusedAt 1 18 2)
unfolding computing
conditions_375 = refl

conditions_376 : body_verdict (record { predicates = ((record { name = name_A; args = (sort.Int ∷ []); cases = ((record { opened = []; facts = ([]); locals = []; items = ([]) }) ∷ []) }) ∷ []); specs = ((record { is_void = true; name = name_f; params = (name_p ∷ name_i ∷ []); vars = ((name_v, sort.Val) ∷ (name_a, sort.Int) ∷ []); pre = (record { opened = []; facts = ((Rel relation.Le (Number (pos 0)) (Var 1 sort.Int)) ∷ (Rel relation.Le (Var 1 sort.Int) (Number (pos 9))) ∷ []); locals = ((name_p, (Var 0 sort.Val)) ∷ (name_i, (Of unary.Vi (Var 1 sort.Int))) ∷ []); items = ((Lock (Number (pos 64)) (Of2 binary.Off (Var 0 sort.Val) (Var 1 sort.Int)) (record { name = name_A; args = ((Number (pos 1)) ∷ []) })) ∷ (Holds (Of2 binary.Off (Var 0 sort.Val) (Var 1 sort.Int)) (record { name = name_A; args = ((Number (pos 1)) ∷ []) })) ∷ []) }); post = (record { opened = []; facts = ([]); locals = []; items = ((Data (Number (pos 64)) (Of2 binary.Off (Var 0 sort.Val) (Var 1 sort.Int)) (Of2 binary.Cons Undef Nil)) ∷ []) }) }) ∷ []) }) (record { is_void = true; name = name_f; params = (name_p ∷ name_i ∷ []); vars = ((name_v, sort.Val) ∷ (name_a, sort.Int) ∷ []); pre = (record { opened = []; facts = ((Rel relation.Le (Number (pos 0)) (Var 1 sort.Int)) ∷ (Rel relation.Le (Var 1 sort.Int) (Number (pos 9))) ∷ []); locals = ((name_p, (Var 0 sort.Val)) ∷ (name_i, (Of unary.Vi (Var 1 sort.Int))) ∷ []); items = ((Lock (Number (pos 64)) (Of2 binary.Off (Var 0 sort.Val) (Var 1 sort.Int)) (record { name = name_A; args = ((Number (pos 1)) ∷ []) })) ∷ (Holds (Of2 binary.Off (Var 0 sort.Val) (Var 1 sort.Int)) (record { name = name_A; args = ((Number (pos 1)) ∷ []) })) ∷ []) }); post = (record { opened = []; facts = ([]); locals = []; items = ((Data (Number (pos 64)) (Of2 binary.Off (Var 0 sort.Val) (Var 1 sort.Int)) (Of2 binary.Cons Undef Nil)) ∷ []) }) }) (record { temps = (name_p ∷ name_i ∷ []); body = (c.Then (c.OnLock lock.Free (c.Address (root.Temp 0) (c.Index kind.Signed (c.Temp 1) c.Here))) (c.Then (c.Return None) c.End)) }) (s.Then 1 (s.FreeLock 0 1 (1 ∷ []) ([])) s.NoBlock (s.Then 2 (s.Return ([]) ([]) ([])) s.NoBlock s.End)) ≡ (RefusedAt 1 19 2)
unfolding computing
conditions_376 = refl

conditions_377 : body_verdict (record { predicates = ([]); specs = ((record { is_void = true; name = name_g; params = (name_q ∷ []); vars = ((name_w, sort.Val) ∷ (name_n, sort.Int) ∷ []); pre = (record { opened = []; facts = ((Rel relation.Le (Number (pos 1)) (Var 1 sort.Int)) ∷ []); locals = ((name_q, (Var 0 sort.Val)) ∷ []); items = ((Data (Number (pos 64)) (Var 0 sort.Val) (Of2 binary.Cons (Of unary.Vi (Var 1 sort.Int)) Nil)) ∷ []) }); post = (record { opened = (sort.Int ∷ []); facts = ((Rel relation.Le (Var 1 sort.Int) (Var 3 sort.Int)) ∷ []); locals = []; items = ((Data (Number (pos 64)) (Var 0 sort.Val) (Of2 binary.Cons (Of unary.Vi (Var 3 sort.Int)) Nil)) ∷ []) }) }) ∷ (record { is_void = true; name = name_f; params = (name_p ∷ []); vars = ((name_v, sort.Val) ∷ []); pre = (record { opened = []; facts = ([]); locals = ((name_p, (Var 0 sort.Val)) ∷ []); items = ((Data (Number (pos 64)) (Var 0 sort.Val) (Of2 binary.Cons (Of unary.Vi (Number (pos 4))) Nil)) ∷ []) }); post = (record { opened = (sort.Int ∷ []); facts = ((Rel relation.Le (Number (pos 4)) (Var 2 sort.Int)) ∷ []); locals = []; items = ((Data (Number (pos 64)) (Var 0 sort.Val) (Of2 binary.Cons (Of unary.Vi (Var 2 sort.Int)) Nil)) ∷ []) }) }) ∷ []) }) (record { is_void = true; name = name_f; params = (name_p ∷ []); vars = ((name_v, sort.Val) ∷ []); pre = (record { opened = []; facts = ([]); locals = ((name_p, (Var 0 sort.Val)) ∷ []); items = ((Data (Number (pos 64)) (Var 0 sort.Val) (Of2 binary.Cons (Of unary.Vi (Number (pos 4))) Nil)) ∷ []) }); post = (record { opened = (sort.Int ∷ []); facts = ((Rel relation.Le (Number (pos 4)) (Var 2 sort.Int)) ∷ []); locals = []; items = ((Data (Number (pos 64)) (Var 0 sort.Val) (Of2 binary.Cons (Of unary.Vi (Var 2 sort.Int)) Nil)) ∷ []) }) }) (record { temps = (name_p ∷ []); body = (c.Then (c.Call None name_g ((c.Temp 0) ∷ [])) (c.Then (c.Return None) c.End)) }) (s.Then 1 (s.Call ((Named name_v) ∷ (Number (pos 4)) ∷ []) ([]) ([]) (name_m ∷ [])) s.NoBlock (s.Then 2 (s.Return ((Named name_m) ∷ []) ([]) ([])) s.NoBlock s.End)) ≡ Accepted
unfolding computing
conditions_377 = refl

conditions_378 : body_verdict (record { predicates = ([]); specs = ((record { is_void = false; name = name_g; params = (name_q ∷ []); vars = ((name_w, sort.Val) ∷ (name_n, sort.Int) ∷ []); pre = (record { opened = []; facts = ((Rel relation.Le (Number (pos 1)) (Var 1 sort.Int)) ∷ []); locals = ((name_q, (Var 0 sort.Val)) ∷ []); items = ((Data (Number (pos 64)) (Var 0 sort.Val) (Of2 binary.Cons (Of unary.Vi (Var 1 sort.Int)) Nil)) ∷ []) }); post = (record { opened = (sort.Int ∷ []); facts = ((Rel relation.Le (Var 1 sort.Int) (Var 3 sort.Int)) ∷ []); locals = []; items = ((Data (Number (pos 64)) (Var 0 sort.Val) (Of2 binary.Cons (Of unary.Vi (Var 3 sort.Int)) Nil)) ∷ []) }) }) ∷ (record { is_void = true; name = name_f; params = (name_p ∷ []); vars = ((name_v, sort.Val) ∷ []); pre = (record { opened = []; facts = ([]); locals = ((name_p, (Var 0 sort.Val)) ∷ []); items = ((Data (Number (pos 64)) (Var 0 sort.Val) (Of2 binary.Cons (Of unary.Vi (Number (pos 4))) Nil)) ∷ []) }); post = (record { opened = (sort.Int ∷ []); facts = ((Rel relation.Le (Number (pos 4)) (Var 2 sort.Int)) ∷ []); locals = []; items = ((Data (Number (pos 64)) (Var 0 sort.Val) (Of2 binary.Cons (Of unary.Vi (Var 2 sort.Int)) Nil)) ∷ []) }) }) ∷ []) }) (record { is_void = true; name = name_f; params = (name_p ∷ []); vars = ((name_v, sort.Val) ∷ []); pre = (record { opened = []; facts = ([]); locals = ((name_p, (Var 0 sort.Val)) ∷ []); items = ((Data (Number (pos 64)) (Var 0 sort.Val) (Of2 binary.Cons (Of unary.Vi (Number (pos 4))) Nil)) ∷ []) }); post = (record { opened = (sort.Int ∷ []); facts = ((Rel relation.Le (Number (pos 4)) (Var 2 sort.Int)) ∷ []); locals = []; items = ((Data (Number (pos 64)) (Var 0 sort.Val) (Of2 binary.Cons (Of unary.Vi (Var 2 sort.Int)) Nil)) ∷ []) }) }) (record { temps = (name_p ∷ name_t ∷ []); body = (c.Then (c.Call (Some 1) name_g ((c.Temp 0) ∷ [])) (c.Then (c.Return None) c.End)) }) (s.Then 1 (s.Call ((Named name_v) ∷ (Number (pos 4)) ∷ []) ([]) ([]) (name_m ∷ [])) s.NoBlock (s.Then 2 (s.Return ((Named name_m) ∷ []) ([]) ([])) s.NoBlock s.End)) ≡ (RefusedAt 1 13 6)
unfolding computing
conditions_378 = refl

conditions_379 : body_verdict (record { predicates = ([]); specs = ((record { is_void = false; name = name_g; params = (name_q ∷ []); vars = ((name_w, sort.Val) ∷ (name_n, sort.Int) ∷ []); pre = (record { opened = []; facts = ((Rel relation.Le (Number (pos 1)) (Var 1 sort.Int)) ∷ []); locals = ((name_q, (Var 0 sort.Val)) ∷ []); items = ((Data (Number (pos 64)) (Var 0 sort.Val) (Of2 binary.Cons (Of unary.Vi (Var 1 sort.Int)) Nil)) ∷ []) }); post = (record { opened = (sort.Int ∷ []); facts = ((Rel relation.Le (Var 1 sort.Int) (Var 3 sort.Int)) ∷ []); locals = []; items = ((Data (Number (pos 64)) (Var 0 sort.Val) (Of2 binary.Cons (Of unary.Vi (Var 3 sort.Int)) Nil)) ∷ []) }) }) ∷ (record { is_void = true; name = name_f; params = (name_p ∷ []); vars = ((name_v, sort.Val) ∷ []); pre = (record { opened = []; facts = ([]); locals = ((name_p, (Var 0 sort.Val)) ∷ []); items = ((Data (Number (pos 64)) (Var 0 sort.Val) (Of2 binary.Cons (Of unary.Vi (Number (pos 4))) Nil)) ∷ []) }); post = (record { opened = (sort.Int ∷ []); facts = ((Rel relation.Le (Number (pos 4)) (Var 2 sort.Int)) ∷ []); locals = []; items = ((Data (Number (pos 64)) (Var 0 sort.Val) (Of2 binary.Cons (Of unary.Vi (Var 2 sort.Int)) Nil)) ∷ []) }) }) ∷ []) }) (record { is_void = true; name = name_f; params = (name_p ∷ []); vars = ((name_v, sort.Val) ∷ []); pre = (record { opened = []; facts = ([]); locals = ((name_p, (Var 0 sort.Val)) ∷ []); items = ((Data (Number (pos 64)) (Var 0 sort.Val) (Of2 binary.Cons (Of unary.Vi (Number (pos 4))) Nil)) ∷ []) }); post = (record { opened = (sort.Int ∷ []); facts = ((Rel relation.Le (Number (pos 4)) (Var 2 sort.Int)) ∷ []); locals = []; items = ((Data (Number (pos 64)) (Var 0 sort.Val) (Of2 binary.Cons (Of unary.Vi (Var 2 sort.Int)) Nil)) ∷ []) }) }) (record { temps = (name_p ∷ name_t ∷ []); body = (c.Then (c.Call (Some 1) name_g ((c.Temp 0) ∷ [])) (c.Then (c.Return None) c.End)) }) (s.Then 1 (s.Call ((Named name_v) ∷ (Number (pos 4)) ∷ []) ([]) ([]) (name_z ∷ name_m ∷ [])) s.NoBlock (s.Then 2 (s.Return ((Named name_m) ∷ []) ([]) ([])) s.NoBlock s.End)) ≡ Accepted
unfolding computing
conditions_379 = refl

conditions_380 : body_verdict (record { predicates = ([]); specs = ((record { is_void = true; name = name_g; params = (name_q ∷ []); vars = ((name_w, sort.Val) ∷ (name_n, sort.Int) ∷ []); pre = (record { opened = []; facts = ((Rel relation.Le (Number (pos 1)) (Var 1 sort.Int)) ∷ []); locals = ((name_q, (Var 0 sort.Val)) ∷ []); items = ((Data (Number (pos 64)) (Var 0 sort.Val) (Of2 binary.Cons (Of unary.Vi (Var 1 sort.Int)) Nil)) ∷ []) }); post = (record { opened = (sort.Int ∷ []); facts = ((Rel relation.Le (Var 1 sort.Int) (Var 3 sort.Int)) ∷ []); locals = []; items = ((Data (Number (pos 64)) (Var 0 sort.Val) (Of2 binary.Cons (Of unary.Vi (Var 3 sort.Int)) Nil)) ∷ []) }) }) ∷ (record { is_void = true; name = name_f; params = (name_p ∷ []); vars = ((name_v, sort.Val) ∷ []); pre = (record { opened = []; facts = ([]); locals = ((name_p, (Var 0 sort.Val)) ∷ []); items = ((Data (Number (pos 64)) (Var 0 sort.Val) (Of2 binary.Cons (Of unary.Vi (Number (pos 4))) Nil)) ∷ []) }); post = (record { opened = []; facts = ([]); locals = []; items = ([]) }) }) ∷ []) }) (record { is_void = true; name = name_f; params = (name_p ∷ []); vars = ((name_v, sort.Val) ∷ []); pre = (record { opened = []; facts = ([]); locals = ((name_p, (Var 0 sort.Val)) ∷ []); items = ((Data (Number (pos 64)) (Var 0 sort.Val) (Of2 binary.Cons (Of unary.Vi (Number (pos 4))) Nil)) ∷ []) }); post = (record { opened = []; facts = ([]); locals = []; items = ([]) }) }) (record { temps = (name_p ∷ []); body = (c.Then (c.Spawn name_g (c.Temp 0)) (c.Then (c.Return None) c.End)) }) (s.Then 1 (s.Spawn ((Named name_v) ∷ (Number (pos 4)) ∷ []) ([]) ([])) s.NoBlock (s.Then 2 (s.Return ([]) ([]) ([])) s.NoBlock s.End)) ≡ Accepted
unfolding computing
conditions_380 = refl

conditions_381 : body_verdict (record { predicates = ([]); specs = ((record { is_void = false; name = name_g; params = (name_q ∷ []); vars = ((name_w, sort.Val) ∷ (name_n, sort.Int) ∷ []); pre = (record { opened = []; facts = ((Rel relation.Le (Number (pos 1)) (Var 1 sort.Int)) ∷ []); locals = ((name_q, (Var 0 sort.Val)) ∷ []); items = ((Data (Number (pos 64)) (Var 0 sort.Val) (Of2 binary.Cons (Of unary.Vi (Var 1 sort.Int)) Nil)) ∷ []) }); post = (record { opened = (sort.Int ∷ []); facts = ((Rel relation.Le (Var 1 sort.Int) (Var 3 sort.Int)) ∷ []); locals = []; items = ((Data (Number (pos 64)) (Var 0 sort.Val) (Of2 binary.Cons (Of unary.Vi (Var 3 sort.Int)) Nil)) ∷ []) }) }) ∷ (record { is_void = true; name = name_f; params = (name_p ∷ []); vars = ((name_v, sort.Val) ∷ []); pre = (record { opened = []; facts = ([]); locals = ((name_p, (Var 0 sort.Val)) ∷ []); items = ((Data (Number (pos 64)) (Var 0 sort.Val) (Of2 binary.Cons (Of unary.Vi (Number (pos 4))) Nil)) ∷ []) }); post = (record { opened = []; facts = ([]); locals = []; items = ([]) }) }) ∷ []) }) (record { is_void = false; name = name_g; params = (name_q ∷ []); vars = ((name_w, sort.Val) ∷ (name_n, sort.Int) ∷ []); pre = (record { opened = []; facts = ((Rel relation.Le (Number (pos 1)) (Var 1 sort.Int)) ∷ []); locals = ((name_q, (Var 0 sort.Val)) ∷ []); items = ((Data (Number (pos 64)) (Var 0 sort.Val) (Of2 binary.Cons (Of unary.Vi (Var 1 sort.Int)) Nil)) ∷ []) }); post = (record { opened = (sort.Int ∷ []); facts = ((Rel relation.Le (Var 1 sort.Int) (Var 3 sort.Int)) ∷ []); locals = []; items = ((Data (Number (pos 64)) (Var 0 sort.Val) (Of2 binary.Cons (Of unary.Vi (Var 3 sort.Int)) Nil)) ∷ []) }) }) (record { temps = (name_q ∷ []); body = (c.Then (c.Return (Some (c.Const 0))) c.End) }) (s.Then 1 (s.Return ([]) ([]) ([])) s.NoBlock s.End) ≡ (RefusedAt 1 9 1)
unfolding computing
conditions_381 = refl

conditions_382 : body_verdict (record { predicates = ([]); specs = ((record { is_void = true; name = name_g; params = (name_q ∷ []); vars = ((name_w, sort.Val) ∷ (name_n, sort.Int) ∷ []); pre = (record { opened = []; facts = ((Rel relation.Le (Number (pos 1)) (Var 1 sort.Int)) ∷ []); locals = ((name_q, (Var 0 sort.Val)) ∷ []); items = ((Data (Number (pos 64)) (Var 0 sort.Val) (Of2 binary.Cons (Of unary.Vi (Var 1 sort.Int)) Nil)) ∷ []) }); post = (record { opened = (sort.Int ∷ []); facts = ((Rel relation.Le (Var 1 sort.Int) (Var 3 sort.Int)) ∷ []); locals = []; items = ((Data (Number (pos 64)) (Var 0 sort.Val) (Of2 binary.Cons (Of unary.Vi (Var 3 sort.Int)) Nil)) ∷ []) }) }) ∷ (record { is_void = true; name = name_f; params = (name_p ∷ []); vars = ((name_v, sort.Val) ∷ []); pre = (record { opened = []; facts = ([]); locals = ((name_p, (Var 0 sort.Val)) ∷ []); items = ((Data (Number (pos 64)) (Var 0 sort.Val) (Of2 binary.Cons (Of unary.Vi (Number (pos 4))) Nil)) ∷ []) }); post = (record { opened = (sort.Int ∷ []); facts = ((Rel relation.Le (Number (pos 4)) (Var 2 sort.Int)) ∷ []); locals = []; items = ((Data (Number (pos 64)) (Var 0 sort.Val) (Of2 binary.Cons (Of unary.Vi (Var 2 sort.Int)) Nil)) ∷ []) }) }) ∷ []) }) (record { is_void = true; name = name_f; params = (name_p ∷ []); vars = ((name_v, sort.Val) ∷ []); pre = (record { opened = []; facts = ([]); locals = ((name_p, (Var 0 sort.Val)) ∷ []); items = ((Data (Number (pos 64)) (Var 0 sort.Val) (Of2 binary.Cons (Of unary.Vi (Number (pos 4))) Nil)) ∷ []) }); post = (record { opened = (sort.Int ∷ []); facts = ((Rel relation.Le (Number (pos 4)) (Var 2 sort.Int)) ∷ []); locals = []; items = ((Data (Number (pos 64)) (Var 0 sort.Val) (Of2 binary.Cons (Of unary.Vi (Var 2 sort.Int)) Nil)) ∷ []) }) }) (record { temps = (name_p ∷ []); body = (c.Then (c.Call None name_g ((c.Temp 0) ∷ [])) (c.Then (c.Return None) c.End)) }) (s.Then 1 (s.Call ((Named name_v) ∷ (Number (pos 5)) ∷ []) ([]) ([]) (name_m ∷ [])) s.NoBlock (s.Then 2 (s.Return ((Named name_m) ∷ []) ([]) ([])) s.NoBlock s.End)) ≡ (RefusedAt 1 13 5)
unfolding computing
conditions_382 = refl

conditions_383 : body_verdict (record { predicates = ([]); specs = ((record { is_void = false; name = name_g; params = (name_q ∷ []); vars = ((name_w, sort.Val) ∷ (name_n, sort.Int) ∷ []); pre = (record { opened = []; facts = ((Rel relation.Le (Number (pos 1)) (Var 1 sort.Int)) ∷ []); locals = ((name_q, (Var 0 sort.Val)) ∷ []); items = ((Data (Number (pos 64)) (Var 0 sort.Val) (Of2 binary.Cons (Of unary.Vi (Var 1 sort.Int)) Nil)) ∷ []) }); post = (record { opened = (sort.Int ∷ []); facts = ((Rel relation.Le (Var 1 sort.Int) (Var 3 sort.Int)) ∷ []); locals = []; items = ((Data (Number (pos 64)) (Var 0 sort.Val) (Of2 binary.Cons (Of unary.Vi (Var 3 sort.Int)) Nil)) ∷ []) }) }) ∷ (record { is_void = true; name = name_f; params = (name_p ∷ []); vars = ((name_v, sort.Val) ∷ []); pre = (record { opened = []; facts = ([]); locals = ((name_p, (Var 0 sort.Val)) ∷ []); items = ((Data (Number (pos 64)) (Var 0 sort.Val) (Of2 binary.Cons (Of unary.Vi (Number (pos 4))) Nil)) ∷ []) }); post = (record { opened = (sort.Int ∷ []); facts = ((Rel relation.Le (Number (pos 4)) (Var 2 sort.Int)) ∷ []); locals = []; items = ((Data (Number (pos 64)) (Var 0 sort.Val) (Of2 binary.Cons (Of unary.Vi (Var 2 sort.Int)) Nil)) ∷ []) }) }) ∷ []) }) (record { is_void = true; name = name_f; params = (name_p ∷ []); vars = ((name_v, sort.Val) ∷ []); pre = (record { opened = []; facts = ([]); locals = ((name_p, (Var 0 sort.Val)) ∷ []); items = ((Data (Number (pos 64)) (Var 0 sort.Val) (Of2 binary.Cons (Of unary.Vi (Number (pos 4))) Nil)) ∷ []) }); post = (record { opened = (sort.Int ∷ []); facts = ((Rel relation.Le (Number (pos 4)) (Var 2 sort.Int)) ∷ []); locals = []; items = ((Data (Number (pos 64)) (Var 0 sort.Val) (Of2 binary.Cons (Of unary.Vi (Var 2 sort.Int)) Nil)) ∷ []) }) }) (record { temps = (name_p ∷ name_t ∷ []); body = (c.Then (c.Call (Some 1) name_g ((c.Temp 0) ∷ [])) (c.Then (c.Return None) c.End)) }) (s.Then 1 (s.Call ((Named name_v) ∷ (Number (pos 5)) ∷ []) ([]) ([]) (name_m ∷ [])) s.NoBlock (s.Then 2 (s.Return ((Named name_m) ∷ []) ([]) ([])) s.NoBlock s.End)) ≡ (RefusedAt 1 13 5)
unfolding computing
conditions_383 = refl

conditions_384 : body_verdict (record { predicates = ([]); specs = ((record { is_void = false; name = name_g; params = (name_q ∷ []); vars = ((name_w, sort.Val) ∷ (name_n, sort.Int) ∷ []); pre = (record { opened = []; facts = ((Rel relation.Le (Number (pos 1)) (Var 1 sort.Int)) ∷ []); locals = ((name_q, (Var 0 sort.Val)) ∷ []); items = ((Data (Number (pos 64)) (Var 0 sort.Val) (Of2 binary.Cons (Of unary.Vi (Var 1 sort.Int)) Nil)) ∷ []) }); post = (record { opened = (sort.Int ∷ []); facts = ((Rel relation.Le (Var 1 sort.Int) (Var 3 sort.Int)) ∷ []); locals = []; items = ((Data (Number (pos 64)) (Var 0 sort.Val) (Of2 binary.Cons (Of unary.Vi (Var 3 sort.Int)) Nil)) ∷ []) }) }) ∷ (record { is_void = true; name = name_f; params = (name_p ∷ []); vars = ((name_v, sort.Val) ∷ []); pre = (record { opened = []; facts = ([]); locals = ((name_p, (Var 0 sort.Val)) ∷ []); items = ((Data (Number (pos 64)) (Var 0 sort.Val) (Of2 binary.Cons (Of unary.Vi (Number (pos 4))) Nil)) ∷ []) }); post = (record { opened = (sort.Int ∷ []); facts = ((Rel relation.Le (Number (pos 4)) (Var 2 sort.Int)) ∷ []); locals = []; items = ((Data (Number (pos 64)) (Var 0 sort.Val) (Of2 binary.Cons (Of unary.Vi (Var 2 sort.Int)) Nil)) ∷ []) }) }) ∷ []) }) (record { is_void = true; name = name_f; params = (name_p ∷ []); vars = ((name_v, sort.Val) ∷ []); pre = (record { opened = []; facts = ([]); locals = ((name_p, (Var 0 sort.Val)) ∷ []); items = ((Data (Number (pos 64)) (Var 0 sort.Val) (Of2 binary.Cons (Of unary.Vi (Number (pos 4))) Nil)) ∷ []) }); post = (record { opened = (sort.Int ∷ []); facts = ((Rel relation.Le (Number (pos 4)) (Var 2 sort.Int)) ∷ []); locals = []; items = ((Data (Number (pos 64)) (Var 0 sort.Val) (Of2 binary.Cons (Of unary.Vi (Var 2 sort.Int)) Nil)) ∷ []) }) }) (record { temps = (name_p ∷ name_t ∷ []); body = (c.Then (c.Call (Some 1) name_g ((c.Temp 0) ∷ [])) (c.Then (c.Return None) c.End)) }) (s.Then 1 (s.Call ((Named name_v) ∷ (Number (pos 5)) ∷ []) ([]) ([]) (name_z ∷ name_m ∷ [])) s.NoBlock (s.Then 2 (s.Return ((Named name_m) ∷ []) ([]) ([])) s.NoBlock s.End)) ≡ (RefusedAt 1 13 5)
unfolding computing
conditions_384 = refl

conditions_385 : body_verdict (record { predicates = ([]); specs = ((record { is_void = true; name = name_g; params = (name_q ∷ []); vars = ((name_w, sort.Val) ∷ (name_n, sort.Int) ∷ []); pre = (record { opened = []; facts = ((Rel relation.Le (Number (pos 1)) (Var 1 sort.Int)) ∷ []); locals = ((name_q, (Var 0 sort.Val)) ∷ []); items = ((Data (Number (pos 64)) (Var 0 sort.Val) (Of2 binary.Cons (Of unary.Vi (Var 1 sort.Int)) Nil)) ∷ []) }); post = (record { opened = (sort.Int ∷ []); facts = ((Rel relation.Le (Var 1 sort.Int) (Var 3 sort.Int)) ∷ []); locals = []; items = ((Data (Number (pos 64)) (Var 0 sort.Val) (Of2 binary.Cons (Of unary.Vi (Var 3 sort.Int)) Nil)) ∷ []) }) }) ∷ (record { is_void = true; name = name_f; params = (name_p ∷ []); vars = ((name_v, sort.Val) ∷ []); pre = (record { opened = []; facts = ([]); locals = ((name_p, (Var 0 sort.Val)) ∷ []); items = ((Data (Number (pos 64)) (Var 0 sort.Val) (Of2 binary.Cons (Of unary.Vi (Number (pos 4))) Nil)) ∷ []) }); post = (record { opened = []; facts = ([]); locals = []; items = ([]) }) }) ∷ []) }) (record { is_void = true; name = name_f; params = (name_p ∷ []); vars = ((name_v, sort.Val) ∷ []); pre = (record { opened = []; facts = ([]); locals = ((name_p, (Var 0 sort.Val)) ∷ []); items = ((Data (Number (pos 64)) (Var 0 sort.Val) (Of2 binary.Cons (Of unary.Vi (Number (pos 4))) Nil)) ∷ []) }); post = (record { opened = []; facts = ([]); locals = []; items = ([]) }) }) (record { temps = (name_p ∷ []); body = (c.Then (c.Spawn name_g (c.Temp 0)) (c.Then (c.Return None) c.End)) }) (s.Then 1 (s.Spawn ((Named name_v) ∷ (Number (pos 5)) ∷ []) ([]) ([])) s.NoBlock (s.Then 2 (s.Return ([]) ([]) ([])) s.NoBlock s.End)) ≡ (RefusedAt 1 20 5)
unfolding computing
conditions_385 = refl

conditions_386 : body_verdict (record { predicates = ([]); specs = ((record { is_void = true; name = name_g; params = (name_q ∷ []); vars = ((name_w, sort.Val) ∷ (name_n, sort.Int) ∷ []); pre = (record { opened = []; facts = ((Rel relation.Le (Number (pos 1)) (Var 1 sort.Int)) ∷ []); locals = ((name_q, (Var 0 sort.Val)) ∷ []); items = ((Data (Number (pos 64)) (Var 0 sort.Val) (Of2 binary.Cons (Of unary.Vi (Var 1 sort.Int)) Nil)) ∷ []) }); post = (record { opened = (sort.Int ∷ []); facts = ((Rel relation.Le (Var 1 sort.Int) (Var 3 sort.Int)) ∷ []); locals = []; items = ((Data (Number (pos 64)) (Var 0 sort.Val) (Of2 binary.Cons (Of unary.Vi (Var 3 sort.Int)) Nil)) ∷ []) }) }) ∷ (record { is_void = true; name = name_f; params = (name_p ∷ []); vars = ((name_v, sort.Val) ∷ []); pre = (record { opened = []; facts = ([]); locals = ((name_p, (Var 0 sort.Val)) ∷ []); items = ((Data (Number (pos 64)) (Var 0 sort.Val) (Of2 binary.Cons (Of unary.Vi (Number (pos 4))) Nil)) ∷ []) }); post = (record { opened = (sort.Int ∷ []); facts = ((Rel relation.Le (Number (pos 4)) (Var 2 sort.Int)) ∷ []); locals = []; items = ((Data (Number (pos 64)) (Var 0 sort.Val) (Of2 binary.Cons (Of unary.Vi (Var 2 sort.Int)) Nil)) ∷ []) }) }) ∷ []) }) (record { is_void = true; name = name_f; params = (name_p ∷ []); vars = ((name_v, sort.Val) ∷ []); pre = (record { opened = []; facts = ([]); locals = ((name_p, (Var 0 sort.Val)) ∷ []); items = ((Data (Number (pos 64)) (Var 0 sort.Val) (Of2 binary.Cons (Of unary.Vi (Number (pos 4))) Nil)) ∷ []) }); post = (record { opened = (sort.Int ∷ []); facts = ((Rel relation.Le (Number (pos 4)) (Var 2 sort.Int)) ∷ []); locals = []; items = ((Data (Number (pos 64)) (Var 0 sort.Val) (Of2 binary.Cons (Of unary.Vi (Var 2 sort.Int)) Nil)) ∷ []) }) }) (record { temps = (name_p ∷ []); body = (c.Then (c.Call None name_g ((c.Temp 0) ∷ [])) (c.Then (c.Return None) c.End)) }) (s.Then 1 (s.Call ((Named name_v) ∷ (Number (pos 0)) ∷ []) ([]) ([]) (name_m ∷ [])) s.NoBlock (s.Then 2 (s.Return ((Named name_m) ∷ []) ([]) ([])) s.NoBlock s.End)) ≡ (RefusedAt 1 13 3)
unfolding computing
conditions_386 = refl

conditions_387 : body_verdict (record { predicates = ([]); specs = ((record { is_void = false; name = name_g; params = (name_q ∷ []); vars = ((name_w, sort.Val) ∷ (name_n, sort.Int) ∷ []); pre = (record { opened = []; facts = ((Rel relation.Le (Number (pos 1)) (Var 1 sort.Int)) ∷ []); locals = ((name_q, (Var 0 sort.Val)) ∷ []); items = ((Data (Number (pos 64)) (Var 0 sort.Val) (Of2 binary.Cons (Of unary.Vi (Var 1 sort.Int)) Nil)) ∷ []) }); post = (record { opened = (sort.Int ∷ []); facts = ((Rel relation.Le (Var 1 sort.Int) (Var 3 sort.Int)) ∷ []); locals = []; items = ((Data (Number (pos 64)) (Var 0 sort.Val) (Of2 binary.Cons (Of unary.Vi (Var 3 sort.Int)) Nil)) ∷ []) }) }) ∷ (record { is_void = true; name = name_f; params = (name_p ∷ []); vars = ((name_v, sort.Val) ∷ []); pre = (record { opened = []; facts = ([]); locals = ((name_p, (Var 0 sort.Val)) ∷ []); items = ((Data (Number (pos 64)) (Var 0 sort.Val) (Of2 binary.Cons (Of unary.Vi (Number (pos 4))) Nil)) ∷ []) }); post = (record { opened = (sort.Int ∷ []); facts = ((Rel relation.Le (Number (pos 4)) (Var 2 sort.Int)) ∷ []); locals = []; items = ((Data (Number (pos 64)) (Var 0 sort.Val) (Of2 binary.Cons (Of unary.Vi (Var 2 sort.Int)) Nil)) ∷ []) }) }) ∷ []) }) (record { is_void = true; name = name_f; params = (name_p ∷ []); vars = ((name_v, sort.Val) ∷ []); pre = (record { opened = []; facts = ([]); locals = ((name_p, (Var 0 sort.Val)) ∷ []); items = ((Data (Number (pos 64)) (Var 0 sort.Val) (Of2 binary.Cons (Of unary.Vi (Number (pos 4))) Nil)) ∷ []) }); post = (record { opened = (sort.Int ∷ []); facts = ((Rel relation.Le (Number (pos 4)) (Var 2 sort.Int)) ∷ []); locals = []; items = ((Data (Number (pos 64)) (Var 0 sort.Val) (Of2 binary.Cons (Of unary.Vi (Var 2 sort.Int)) Nil)) ∷ []) }) }) (record { temps = (name_p ∷ name_t ∷ []); body = (c.Then (c.Call (Some 1) name_g ((c.Temp 0) ∷ [])) (c.Then (c.Return None) c.End)) }) (s.Then 1 (s.Call ((Named name_v) ∷ (Number (pos 0)) ∷ []) ([]) ([]) (name_m ∷ [])) s.NoBlock (s.Then 2 (s.Return ((Named name_m) ∷ []) ([]) ([])) s.NoBlock s.End)) ≡ (RefusedAt 1 13 3)
unfolding computing
conditions_387 = refl

conditions_388 : body_verdict (record { predicates = ([]); specs = ((record { is_void = false; name = name_g; params = (name_q ∷ []); vars = ((name_w, sort.Val) ∷ (name_n, sort.Int) ∷ []); pre = (record { opened = []; facts = ((Rel relation.Le (Number (pos 1)) (Var 1 sort.Int)) ∷ []); locals = ((name_q, (Var 0 sort.Val)) ∷ []); items = ((Data (Number (pos 64)) (Var 0 sort.Val) (Of2 binary.Cons (Of unary.Vi (Var 1 sort.Int)) Nil)) ∷ []) }); post = (record { opened = (sort.Int ∷ []); facts = ((Rel relation.Le (Var 1 sort.Int) (Var 3 sort.Int)) ∷ []); locals = []; items = ((Data (Number (pos 64)) (Var 0 sort.Val) (Of2 binary.Cons (Of unary.Vi (Var 3 sort.Int)) Nil)) ∷ []) }) }) ∷ (record { is_void = true; name = name_f; params = (name_p ∷ []); vars = ((name_v, sort.Val) ∷ []); pre = (record { opened = []; facts = ([]); locals = ((name_p, (Var 0 sort.Val)) ∷ []); items = ((Data (Number (pos 64)) (Var 0 sort.Val) (Of2 binary.Cons (Of unary.Vi (Number (pos 4))) Nil)) ∷ []) }); post = (record { opened = (sort.Int ∷ []); facts = ((Rel relation.Le (Number (pos 4)) (Var 2 sort.Int)) ∷ []); locals = []; items = ((Data (Number (pos 64)) (Var 0 sort.Val) (Of2 binary.Cons (Of unary.Vi (Var 2 sort.Int)) Nil)) ∷ []) }) }) ∷ []) }) (record { is_void = true; name = name_f; params = (name_p ∷ []); vars = ((name_v, sort.Val) ∷ []); pre = (record { opened = []; facts = ([]); locals = ((name_p, (Var 0 sort.Val)) ∷ []); items = ((Data (Number (pos 64)) (Var 0 sort.Val) (Of2 binary.Cons (Of unary.Vi (Number (pos 4))) Nil)) ∷ []) }); post = (record { opened = (sort.Int ∷ []); facts = ((Rel relation.Le (Number (pos 4)) (Var 2 sort.Int)) ∷ []); locals = []; items = ((Data (Number (pos 64)) (Var 0 sort.Val) (Of2 binary.Cons (Of unary.Vi (Var 2 sort.Int)) Nil)) ∷ []) }) }) (record { temps = (name_p ∷ name_t ∷ []); body = (c.Then (c.Call (Some 1) name_g ((c.Temp 0) ∷ [])) (c.Then (c.Return None) c.End)) }) (s.Then 1 (s.Call ((Named name_v) ∷ (Number (pos 0)) ∷ []) ([]) ([]) (name_z ∷ name_m ∷ [])) s.NoBlock (s.Then 2 (s.Return ((Named name_m) ∷ []) ([]) ([])) s.NoBlock s.End)) ≡ (RefusedAt 1 13 3)
unfolding computing
conditions_388 = refl

conditions_389 : body_verdict (record { predicates = ([]); specs = ((record { is_void = true; name = name_g; params = (name_q ∷ []); vars = ((name_w, sort.Val) ∷ (name_n, sort.Int) ∷ []); pre = (record { opened = []; facts = ((Rel relation.Le (Number (pos 1)) (Var 1 sort.Int)) ∷ []); locals = ((name_q, (Var 0 sort.Val)) ∷ []); items = ((Data (Number (pos 64)) (Var 0 sort.Val) (Of2 binary.Cons (Of unary.Vi (Var 1 sort.Int)) Nil)) ∷ []) }); post = (record { opened = (sort.Int ∷ []); facts = ((Rel relation.Le (Var 1 sort.Int) (Var 3 sort.Int)) ∷ []); locals = []; items = ((Data (Number (pos 64)) (Var 0 sort.Val) (Of2 binary.Cons (Of unary.Vi (Var 3 sort.Int)) Nil)) ∷ []) }) }) ∷ (record { is_void = true; name = name_f; params = (name_p ∷ []); vars = ((name_v, sort.Val) ∷ []); pre = (record { opened = []; facts = ([]); locals = ((name_p, (Var 0 sort.Val)) ∷ []); items = ((Data (Number (pos 64)) (Var 0 sort.Val) (Of2 binary.Cons (Of unary.Vi (Number (pos 4))) Nil)) ∷ []) }); post = (record { opened = []; facts = ([]); locals = []; items = ([]) }) }) ∷ []) }) (record { is_void = true; name = name_f; params = (name_p ∷ []); vars = ((name_v, sort.Val) ∷ []); pre = (record { opened = []; facts = ([]); locals = ((name_p, (Var 0 sort.Val)) ∷ []); items = ((Data (Number (pos 64)) (Var 0 sort.Val) (Of2 binary.Cons (Of unary.Vi (Number (pos 4))) Nil)) ∷ []) }); post = (record { opened = []; facts = ([]); locals = []; items = ([]) }) }) (record { temps = (name_p ∷ []); body = (c.Then (c.Spawn name_g (c.Temp 0)) (c.Then (c.Return None) c.End)) }) (s.Then 1 (s.Spawn ((Named name_v) ∷ (Number (pos 0)) ∷ []) ([]) ([])) s.NoBlock (s.Then 2 (s.Return ([]) ([]) ([])) s.NoBlock s.End)) ≡ (RefusedAt 1 20 3)
unfolding computing
conditions_389 = refl

conditions_390 : body_verdict (record { predicates = ([]); specs = ((record { is_void = true; name = name_g; params = (name_q ∷ []); vars = ((name_w, sort.Val) ∷ (name_n, sort.Int) ∷ []); pre = (record { opened = []; facts = ((Rel relation.Le (Number (pos 1)) (Var 1 sort.Int)) ∷ []); locals = ((name_q, (Var 0 sort.Val)) ∷ []); items = ((Data (Number (pos 64)) (Var 0 sort.Val) (Of2 binary.Cons (Of unary.Vi (Var 1 sort.Int)) Nil)) ∷ []) }); post = (record { opened = (sort.Int ∷ []); facts = ((Rel relation.Le (Var 1 sort.Int) (Var 3 sort.Int)) ∷ []); locals = []; items = ((Data (Number (pos 64)) (Var 0 sort.Val) (Of2 binary.Cons (Of unary.Vi (Var 3 sort.Int)) Nil)) ∷ []) }) }) ∷ (record { is_void = true; name = name_f; params = (name_p ∷ []); vars = ((name_v, sort.Val) ∷ []); pre = (record { opened = []; facts = ([]); locals = ((name_p, (Var 0 sort.Val)) ∷ []); items = ((Data (Number (pos 64)) (Var 0 sort.Val) (Of2 binary.Cons (Of unary.Vi (Number (pos 4))) Nil)) ∷ []) }); post = (record { opened = (sort.Int ∷ []); facts = ((Rel relation.Le (Number (pos 4)) (Var 2 sort.Int)) ∷ []); locals = []; items = ((Data (Number (pos 64)) (Var 0 sort.Val) (Of2 binary.Cons (Of unary.Vi (Var 2 sort.Int)) Nil)) ∷ []) }) }) ∷ []) }) (record { is_void = true; name = name_f; params = (name_p ∷ []); vars = ((name_v, sort.Val) ∷ []); pre = (record { opened = []; facts = ([]); locals = ((name_p, (Var 0 sort.Val)) ∷ []); items = ((Data (Number (pos 64)) (Var 0 sort.Val) (Of2 binary.Cons (Of unary.Vi (Number (pos 4))) Nil)) ∷ []) }); post = (record { opened = (sort.Int ∷ []); facts = ((Rel relation.Le (Number (pos 4)) (Var 2 sort.Int)) ∷ []); locals = []; items = ((Data (Number (pos 64)) (Var 0 sort.Val) (Of2 binary.Cons (Of unary.Vi (Var 2 sort.Int)) Nil)) ∷ []) }) }) (record { temps = (name_p ∷ []); body = (c.Then (c.Call None name_g ((c.Temp 0) ∷ [])) (c.Then (c.Return None) c.End)) }) (s.Then 1 (s.Call ((Number (pos 4)) ∷ (Named name_v) ∷ []) ([]) ([]) (name_m ∷ [])) s.NoBlock (s.Then 2 (s.Return ((Named name_m) ∷ []) ([]) ([])) s.NoBlock s.End)) ≡ (RefusedAt 1 13 1)
unfolding computing
conditions_390 = refl

conditions_391 : body_verdict (record { predicates = ([]); specs = ((record { is_void = false; name = name_g; params = (name_q ∷ []); vars = ((name_w, sort.Val) ∷ (name_n, sort.Int) ∷ []); pre = (record { opened = []; facts = ((Rel relation.Le (Number (pos 1)) (Var 1 sort.Int)) ∷ []); locals = ((name_q, (Var 0 sort.Val)) ∷ []); items = ((Data (Number (pos 64)) (Var 0 sort.Val) (Of2 binary.Cons (Of unary.Vi (Var 1 sort.Int)) Nil)) ∷ []) }); post = (record { opened = (sort.Int ∷ []); facts = ((Rel relation.Le (Var 1 sort.Int) (Var 3 sort.Int)) ∷ []); locals = []; items = ((Data (Number (pos 64)) (Var 0 sort.Val) (Of2 binary.Cons (Of unary.Vi (Var 3 sort.Int)) Nil)) ∷ []) }) }) ∷ (record { is_void = true; name = name_f; params = (name_p ∷ []); vars = ((name_v, sort.Val) ∷ []); pre = (record { opened = []; facts = ([]); locals = ((name_p, (Var 0 sort.Val)) ∷ []); items = ((Data (Number (pos 64)) (Var 0 sort.Val) (Of2 binary.Cons (Of unary.Vi (Number (pos 4))) Nil)) ∷ []) }); post = (record { opened = (sort.Int ∷ []); facts = ((Rel relation.Le (Number (pos 4)) (Var 2 sort.Int)) ∷ []); locals = []; items = ((Data (Number (pos 64)) (Var 0 sort.Val) (Of2 binary.Cons (Of unary.Vi (Var 2 sort.Int)) Nil)) ∷ []) }) }) ∷ []) }) (record { is_void = true; name = name_f; params = (name_p ∷ []); vars = ((name_v, sort.Val) ∷ []); pre = (record { opened = []; facts = ([]); locals = ((name_p, (Var 0 sort.Val)) ∷ []); items = ((Data (Number (pos 64)) (Var 0 sort.Val) (Of2 binary.Cons (Of unary.Vi (Number (pos 4))) Nil)) ∷ []) }); post = (record { opened = (sort.Int ∷ []); facts = ((Rel relation.Le (Number (pos 4)) (Var 2 sort.Int)) ∷ []); locals = []; items = ((Data (Number (pos 64)) (Var 0 sort.Val) (Of2 binary.Cons (Of unary.Vi (Var 2 sort.Int)) Nil)) ∷ []) }) }) (record { temps = (name_p ∷ name_t ∷ []); body = (c.Then (c.Call (Some 1) name_g ((c.Temp 0) ∷ [])) (c.Then (c.Return None) c.End)) }) (s.Then 1 (s.Call ((Number (pos 4)) ∷ (Named name_v) ∷ []) ([]) ([]) (name_m ∷ [])) s.NoBlock (s.Then 2 (s.Return ((Named name_m) ∷ []) ([]) ([])) s.NoBlock s.End)) ≡ (RefusedAt 1 13 1)
unfolding computing
conditions_391 = refl

conditions_392 : body_verdict (record { predicates = ([]); specs = ((record { is_void = false; name = name_g; params = (name_q ∷ []); vars = ((name_w, sort.Val) ∷ (name_n, sort.Int) ∷ []); pre = (record { opened = []; facts = ((Rel relation.Le (Number (pos 1)) (Var 1 sort.Int)) ∷ []); locals = ((name_q, (Var 0 sort.Val)) ∷ []); items = ((Data (Number (pos 64)) (Var 0 sort.Val) (Of2 binary.Cons (Of unary.Vi (Var 1 sort.Int)) Nil)) ∷ []) }); post = (record { opened = (sort.Int ∷ []); facts = ((Rel relation.Le (Var 1 sort.Int) (Var 3 sort.Int)) ∷ []); locals = []; items = ((Data (Number (pos 64)) (Var 0 sort.Val) (Of2 binary.Cons (Of unary.Vi (Var 3 sort.Int)) Nil)) ∷ []) }) }) ∷ (record { is_void = true; name = name_f; params = (name_p ∷ []); vars = ((name_v, sort.Val) ∷ []); pre = (record { opened = []; facts = ([]); locals = ((name_p, (Var 0 sort.Val)) ∷ []); items = ((Data (Number (pos 64)) (Var 0 sort.Val) (Of2 binary.Cons (Of unary.Vi (Number (pos 4))) Nil)) ∷ []) }); post = (record { opened = (sort.Int ∷ []); facts = ((Rel relation.Le (Number (pos 4)) (Var 2 sort.Int)) ∷ []); locals = []; items = ((Data (Number (pos 64)) (Var 0 sort.Val) (Of2 binary.Cons (Of unary.Vi (Var 2 sort.Int)) Nil)) ∷ []) }) }) ∷ []) }) (record { is_void = true; name = name_f; params = (name_p ∷ []); vars = ((name_v, sort.Val) ∷ []); pre = (record { opened = []; facts = ([]); locals = ((name_p, (Var 0 sort.Val)) ∷ []); items = ((Data (Number (pos 64)) (Var 0 sort.Val) (Of2 binary.Cons (Of unary.Vi (Number (pos 4))) Nil)) ∷ []) }); post = (record { opened = (sort.Int ∷ []); facts = ((Rel relation.Le (Number (pos 4)) (Var 2 sort.Int)) ∷ []); locals = []; items = ((Data (Number (pos 64)) (Var 0 sort.Val) (Of2 binary.Cons (Of unary.Vi (Var 2 sort.Int)) Nil)) ∷ []) }) }) (record { temps = (name_p ∷ name_t ∷ []); body = (c.Then (c.Call (Some 1) name_g ((c.Temp 0) ∷ [])) (c.Then (c.Return None) c.End)) }) (s.Then 1 (s.Call ((Number (pos 4)) ∷ (Named name_v) ∷ []) ([]) ([]) (name_z ∷ name_m ∷ [])) s.NoBlock (s.Then 2 (s.Return ((Named name_m) ∷ []) ([]) ([])) s.NoBlock s.End)) ≡ (RefusedAt 1 13 1)
unfolding computing
conditions_392 = refl

conditions_393 : body_verdict (record { predicates = ([]); specs = ((record { is_void = true; name = name_g; params = (name_q ∷ []); vars = ((name_w, sort.Val) ∷ (name_n, sort.Int) ∷ []); pre = (record { opened = []; facts = ((Rel relation.Le (Number (pos 1)) (Var 1 sort.Int)) ∷ []); locals = ((name_q, (Var 0 sort.Val)) ∷ []); items = ((Data (Number (pos 64)) (Var 0 sort.Val) (Of2 binary.Cons (Of unary.Vi (Var 1 sort.Int)) Nil)) ∷ []) }); post = (record { opened = (sort.Int ∷ []); facts = ((Rel relation.Le (Var 1 sort.Int) (Var 3 sort.Int)) ∷ []); locals = []; items = ((Data (Number (pos 64)) (Var 0 sort.Val) (Of2 binary.Cons (Of unary.Vi (Var 3 sort.Int)) Nil)) ∷ []) }) }) ∷ (record { is_void = true; name = name_f; params = (name_p ∷ []); vars = ((name_v, sort.Val) ∷ []); pre = (record { opened = []; facts = ([]); locals = ((name_p, (Var 0 sort.Val)) ∷ []); items = ((Data (Number (pos 64)) (Var 0 sort.Val) (Of2 binary.Cons (Of unary.Vi (Number (pos 4))) Nil)) ∷ []) }); post = (record { opened = []; facts = ([]); locals = []; items = ([]) }) }) ∷ []) }) (record { is_void = true; name = name_f; params = (name_p ∷ []); vars = ((name_v, sort.Val) ∷ []); pre = (record { opened = []; facts = ([]); locals = ((name_p, (Var 0 sort.Val)) ∷ []); items = ((Data (Number (pos 64)) (Var 0 sort.Val) (Of2 binary.Cons (Of unary.Vi (Number (pos 4))) Nil)) ∷ []) }); post = (record { opened = []; facts = ([]); locals = []; items = ([]) }) }) (record { temps = (name_p ∷ []); body = (c.Then (c.Spawn name_g (c.Temp 0)) (c.Then (c.Return None) c.End)) }) (s.Then 1 (s.Spawn ((Number (pos 4)) ∷ (Named name_v) ∷ []) ([]) ([])) s.NoBlock (s.Then 2 (s.Return ([]) ([]) ([])) s.NoBlock s.End)) ≡ (RefusedAt 1 20 1)
unfolding computing
conditions_393 = refl

conditions_394 : body_verdict (record { predicates = ([]); specs = ((record { is_void = true; name = name_g; params = (name_q ∷ []); vars = ((name_w, sort.Val) ∷ (name_n, sort.Int) ∷ []); pre = (record { opened = []; facts = ((Rel relation.Le (Number (pos 1)) (Var 1 sort.Int)) ∷ []); locals = ((name_q, (Var 0 sort.Val)) ∷ []); items = ((Data (Number (pos 64)) (Var 0 sort.Val) (Of2 binary.Cons (Of unary.Vi (Var 1 sort.Int)) Nil)) ∷ []) }); post = (record { opened = (sort.Int ∷ []); facts = ((Rel relation.Le (Var 1 sort.Int) (Var 3 sort.Int)) ∷ []); locals = []; items = ((Data (Number (pos 64)) (Var 0 sort.Val) (Of2 binary.Cons (Of unary.Vi (Var 3 sort.Int)) Nil)) ∷ []) }) }) ∷ (record { is_void = true; name = name_f; params = (name_p ∷ []); vars = ((name_v, sort.Val) ∷ []); pre = (record { opened = []; facts = ([]); locals = ((name_p, (Var 0 sort.Val)) ∷ []); items = ((Data (Number (pos 64)) (Var 0 sort.Val) (Of2 binary.Cons (Of unary.Vi (Number (pos 4))) Nil)) ∷ []) }); post = (record { opened = (sort.Int ∷ []); facts = ((Rel relation.Le (Number (pos 4)) (Var 2 sort.Int)) ∷ []); locals = []; items = ((Data (Number (pos 64)) (Var 0 sort.Val) (Of2 binary.Cons (Of unary.Vi (Var 2 sort.Int)) Nil)) ∷ []) }) }) ∷ []) }) (record { is_void = true; name = name_f; params = (name_p ∷ []); vars = ((name_v, sort.Val) ∷ []); pre = (record { opened = []; facts = ([]); locals = ((name_p, (Var 0 sort.Val)) ∷ []); items = ((Data (Number (pos 64)) (Var 0 sort.Val) (Of2 binary.Cons (Of unary.Vi (Number (pos 4))) Nil)) ∷ []) }); post = (record { opened = (sort.Int ∷ []); facts = ((Rel relation.Le (Number (pos 4)) (Var 2 sort.Int)) ∷ []); locals = []; items = ((Data (Number (pos 64)) (Var 0 sort.Val) (Of2 binary.Cons (Of unary.Vi (Var 2 sort.Int)) Nil)) ∷ []) }) }) (record { temps = (name_p ∷ []); body = (c.Then (c.Call None name_g ((c.Temp 0) ∷ [])) (c.Then (c.Return None) c.End)) }) (s.Then 1 (s.Call ((Named name_v) ∷ []) ([]) ([]) (name_m ∷ [])) s.NoBlock (s.Then 2 (s.Return ((Named name_m) ∷ []) ([]) ([])) s.NoBlock s.End)) ≡ (RefusedAt 1 13 1)
unfolding computing
conditions_394 = refl

conditions_395 : body_verdict (record { predicates = ([]); specs = ((record { is_void = false; name = name_g; params = (name_q ∷ []); vars = ((name_w, sort.Val) ∷ (name_n, sort.Int) ∷ []); pre = (record { opened = []; facts = ((Rel relation.Le (Number (pos 1)) (Var 1 sort.Int)) ∷ []); locals = ((name_q, (Var 0 sort.Val)) ∷ []); items = ((Data (Number (pos 64)) (Var 0 sort.Val) (Of2 binary.Cons (Of unary.Vi (Var 1 sort.Int)) Nil)) ∷ []) }); post = (record { opened = (sort.Int ∷ []); facts = ((Rel relation.Le (Var 1 sort.Int) (Var 3 sort.Int)) ∷ []); locals = []; items = ((Data (Number (pos 64)) (Var 0 sort.Val) (Of2 binary.Cons (Of unary.Vi (Var 3 sort.Int)) Nil)) ∷ []) }) }) ∷ (record { is_void = true; name = name_f; params = (name_p ∷ []); vars = ((name_v, sort.Val) ∷ []); pre = (record { opened = []; facts = ([]); locals = ((name_p, (Var 0 sort.Val)) ∷ []); items = ((Data (Number (pos 64)) (Var 0 sort.Val) (Of2 binary.Cons (Of unary.Vi (Number (pos 4))) Nil)) ∷ []) }); post = (record { opened = (sort.Int ∷ []); facts = ((Rel relation.Le (Number (pos 4)) (Var 2 sort.Int)) ∷ []); locals = []; items = ((Data (Number (pos 64)) (Var 0 sort.Val) (Of2 binary.Cons (Of unary.Vi (Var 2 sort.Int)) Nil)) ∷ []) }) }) ∷ []) }) (record { is_void = true; name = name_f; params = (name_p ∷ []); vars = ((name_v, sort.Val) ∷ []); pre = (record { opened = []; facts = ([]); locals = ((name_p, (Var 0 sort.Val)) ∷ []); items = ((Data (Number (pos 64)) (Var 0 sort.Val) (Of2 binary.Cons (Of unary.Vi (Number (pos 4))) Nil)) ∷ []) }); post = (record { opened = (sort.Int ∷ []); facts = ((Rel relation.Le (Number (pos 4)) (Var 2 sort.Int)) ∷ []); locals = []; items = ((Data (Number (pos 64)) (Var 0 sort.Val) (Of2 binary.Cons (Of unary.Vi (Var 2 sort.Int)) Nil)) ∷ []) }) }) (record { temps = (name_p ∷ name_t ∷ []); body = (c.Then (c.Call (Some 1) name_g ((c.Temp 0) ∷ [])) (c.Then (c.Return None) c.End)) }) (s.Then 1 (s.Call ((Named name_v) ∷ []) ([]) ([]) (name_m ∷ [])) s.NoBlock (s.Then 2 (s.Return ((Named name_m) ∷ []) ([]) ([])) s.NoBlock s.End)) ≡ (RefusedAt 1 13 1)
unfolding computing
conditions_395 = refl

conditions_396 : body_verdict (record { predicates = ([]); specs = ((record { is_void = false; name = name_g; params = (name_q ∷ []); vars = ((name_w, sort.Val) ∷ (name_n, sort.Int) ∷ []); pre = (record { opened = []; facts = ((Rel relation.Le (Number (pos 1)) (Var 1 sort.Int)) ∷ []); locals = ((name_q, (Var 0 sort.Val)) ∷ []); items = ((Data (Number (pos 64)) (Var 0 sort.Val) (Of2 binary.Cons (Of unary.Vi (Var 1 sort.Int)) Nil)) ∷ []) }); post = (record { opened = (sort.Int ∷ []); facts = ((Rel relation.Le (Var 1 sort.Int) (Var 3 sort.Int)) ∷ []); locals = []; items = ((Data (Number (pos 64)) (Var 0 sort.Val) (Of2 binary.Cons (Of unary.Vi (Var 3 sort.Int)) Nil)) ∷ []) }) }) ∷ (record { is_void = true; name = name_f; params = (name_p ∷ []); vars = ((name_v, sort.Val) ∷ []); pre = (record { opened = []; facts = ([]); locals = ((name_p, (Var 0 sort.Val)) ∷ []); items = ((Data (Number (pos 64)) (Var 0 sort.Val) (Of2 binary.Cons (Of unary.Vi (Number (pos 4))) Nil)) ∷ []) }); post = (record { opened = (sort.Int ∷ []); facts = ((Rel relation.Le (Number (pos 4)) (Var 2 sort.Int)) ∷ []); locals = []; items = ((Data (Number (pos 64)) (Var 0 sort.Val) (Of2 binary.Cons (Of unary.Vi (Var 2 sort.Int)) Nil)) ∷ []) }) }) ∷ []) }) (record { is_void = true; name = name_f; params = (name_p ∷ []); vars = ((name_v, sort.Val) ∷ []); pre = (record { opened = []; facts = ([]); locals = ((name_p, (Var 0 sort.Val)) ∷ []); items = ((Data (Number (pos 64)) (Var 0 sort.Val) (Of2 binary.Cons (Of unary.Vi (Number (pos 4))) Nil)) ∷ []) }); post = (record { opened = (sort.Int ∷ []); facts = ((Rel relation.Le (Number (pos 4)) (Var 2 sort.Int)) ∷ []); locals = []; items = ((Data (Number (pos 64)) (Var 0 sort.Val) (Of2 binary.Cons (Of unary.Vi (Var 2 sort.Int)) Nil)) ∷ []) }) }) (record { temps = (name_p ∷ name_t ∷ []); body = (c.Then (c.Call (Some 1) name_g ((c.Temp 0) ∷ [])) (c.Then (c.Return None) c.End)) }) (s.Then 1 (s.Call ((Named name_v) ∷ []) ([]) ([]) (name_z ∷ name_m ∷ [])) s.NoBlock (s.Then 2 (s.Return ((Named name_m) ∷ []) ([]) ([])) s.NoBlock s.End)) ≡ (RefusedAt 1 13 1)
unfolding computing
conditions_396 = refl

conditions_397 : body_verdict (record { predicates = ([]); specs = ((record { is_void = true; name = name_g; params = (name_q ∷ []); vars = ((name_w, sort.Val) ∷ (name_n, sort.Int) ∷ []); pre = (record { opened = []; facts = ((Rel relation.Le (Number (pos 1)) (Var 1 sort.Int)) ∷ []); locals = ((name_q, (Var 0 sort.Val)) ∷ []); items = ((Data (Number (pos 64)) (Var 0 sort.Val) (Of2 binary.Cons (Of unary.Vi (Var 1 sort.Int)) Nil)) ∷ []) }); post = (record { opened = (sort.Int ∷ []); facts = ((Rel relation.Le (Var 1 sort.Int) (Var 3 sort.Int)) ∷ []); locals = []; items = ((Data (Number (pos 64)) (Var 0 sort.Val) (Of2 binary.Cons (Of unary.Vi (Var 3 sort.Int)) Nil)) ∷ []) }) }) ∷ (record { is_void = true; name = name_f; params = (name_p ∷ []); vars = ((name_v, sort.Val) ∷ []); pre = (record { opened = []; facts = ([]); locals = ((name_p, (Var 0 sort.Val)) ∷ []); items = ((Data (Number (pos 64)) (Var 0 sort.Val) (Of2 binary.Cons (Of unary.Vi (Number (pos 4))) Nil)) ∷ []) }); post = (record { opened = []; facts = ([]); locals = []; items = ([]) }) }) ∷ []) }) (record { is_void = true; name = name_f; params = (name_p ∷ []); vars = ((name_v, sort.Val) ∷ []); pre = (record { opened = []; facts = ([]); locals = ((name_p, (Var 0 sort.Val)) ∷ []); items = ((Data (Number (pos 64)) (Var 0 sort.Val) (Of2 binary.Cons (Of unary.Vi (Number (pos 4))) Nil)) ∷ []) }); post = (record { opened = []; facts = ([]); locals = []; items = ([]) }) }) (record { temps = (name_p ∷ []); body = (c.Then (c.Spawn name_g (c.Temp 0)) (c.Then (c.Return None) c.End)) }) (s.Then 1 (s.Spawn ((Named name_v) ∷ []) ([]) ([])) s.NoBlock (s.Then 2 (s.Return ([]) ([]) ([])) s.NoBlock s.End)) ≡ (RefusedAt 1 20 1)
unfolding computing
conditions_397 = refl

conditions_398 : body_verdict (record { predicates = ([]); specs = ((record { is_void = true; name = name_g; params = (name_q ∷ []); vars = ((name_w, sort.Val) ∷ (name_n, sort.Int) ∷ []); pre = (record { opened = []; facts = ((Rel relation.Le (Number (pos 1)) (Var 1 sort.Int)) ∷ []); locals = ((name_q, (Var 0 sort.Val)) ∷ []); items = ((Data (Number (pos 64)) (Var 0 sort.Val) (Of2 binary.Cons (Of unary.Vi (Var 1 sort.Int)) Nil)) ∷ []) }); post = (record { opened = (sort.Int ∷ []); facts = ((Rel relation.Le (Var 1 sort.Int) (Var 3 sort.Int)) ∷ []); locals = []; items = ((Data (Number (pos 64)) (Var 0 sort.Val) (Of2 binary.Cons (Of unary.Vi (Var 3 sort.Int)) Nil)) ∷ []) }) }) ∷ (record { is_void = true; name = name_f; params = (name_p ∷ []); vars = ((name_v, sort.Val) ∷ []); pre = (record { opened = []; facts = ([]); locals = ((name_p, (Var 0 sort.Val)) ∷ []); items = ((Data (Number (pos 64)) (Var 0 sort.Val) (Of2 binary.Cons (Of unary.Vi (Number (pos 4))) Nil)) ∷ []) }); post = (record { opened = (sort.Int ∷ []); facts = ((Rel relation.Le (Number (pos 4)) (Var 2 sort.Int)) ∷ []); locals = []; items = ((Data (Number (pos 64)) (Var 0 sort.Val) (Of2 binary.Cons (Of unary.Vi (Var 2 sort.Int)) Nil)) ∷ []) }) }) ∷ []) }) (record { is_void = true; name = name_f; params = (name_p ∷ []); vars = ((name_v, sort.Val) ∷ []); pre = (record { opened = []; facts = ([]); locals = ((name_p, (Var 0 sort.Val)) ∷ []); items = ((Data (Number (pos 64)) (Var 0 sort.Val) (Of2 binary.Cons (Of unary.Vi (Number (pos 4))) Nil)) ∷ []) }); post = (record { opened = (sort.Int ∷ []); facts = ((Rel relation.Le (Number (pos 4)) (Var 2 sort.Int)) ∷ []); locals = []; items = ((Data (Number (pos 64)) (Var 0 sort.Val) (Of2 binary.Cons (Of unary.Vi (Var 2 sort.Int)) Nil)) ∷ []) }) }) (record { temps = (name_p ∷ []); body = (c.Then (c.Call None name_g ((c.Temp 0) ∷ [])) (c.Then (c.Return None) c.End)) }) (s.Then 1 (s.Call ((Named name_v) ∷ (Number (pos 4)) ∷ []) ([]) ([]) ([])) s.NoBlock (s.Then 2 (s.Return ((Number (pos 4)) ∷ []) ([]) ([])) s.NoBlock s.End)) ≡ (RefusedAt 1 13 6)
unfolding computing
conditions_398 = refl

conditions_399 : body_verdict (record { predicates = ([]); specs = ((record { is_void = false; name = name_g; params = (name_q ∷ []); vars = ((name_w, sort.Val) ∷ (name_n, sort.Int) ∷ []); pre = (record { opened = []; facts = ((Rel relation.Le (Number (pos 1)) (Var 1 sort.Int)) ∷ []); locals = ((name_q, (Var 0 sort.Val)) ∷ []); items = ((Data (Number (pos 64)) (Var 0 sort.Val) (Of2 binary.Cons (Of unary.Vi (Var 1 sort.Int)) Nil)) ∷ []) }); post = (record { opened = (sort.Int ∷ []); facts = ((Rel relation.Le (Var 1 sort.Int) (Var 3 sort.Int)) ∷ []); locals = []; items = ((Data (Number (pos 64)) (Var 0 sort.Val) (Of2 binary.Cons (Of unary.Vi (Var 3 sort.Int)) Nil)) ∷ []) }) }) ∷ (record { is_void = true; name = name_f; params = (name_p ∷ []); vars = ((name_v, sort.Val) ∷ []); pre = (record { opened = []; facts = ([]); locals = ((name_p, (Var 0 sort.Val)) ∷ []); items = ((Data (Number (pos 64)) (Var 0 sort.Val) (Of2 binary.Cons (Of unary.Vi (Number (pos 4))) Nil)) ∷ []) }); post = (record { opened = (sort.Int ∷ []); facts = ((Rel relation.Le (Number (pos 4)) (Var 2 sort.Int)) ∷ []); locals = []; items = ((Data (Number (pos 64)) (Var 0 sort.Val) (Of2 binary.Cons (Of unary.Vi (Var 2 sort.Int)) Nil)) ∷ []) }) }) ∷ []) }) (record { is_void = true; name = name_f; params = (name_p ∷ []); vars = ((name_v, sort.Val) ∷ []); pre = (record { opened = []; facts = ([]); locals = ((name_p, (Var 0 sort.Val)) ∷ []); items = ((Data (Number (pos 64)) (Var 0 sort.Val) (Of2 binary.Cons (Of unary.Vi (Number (pos 4))) Nil)) ∷ []) }); post = (record { opened = (sort.Int ∷ []); facts = ((Rel relation.Le (Number (pos 4)) (Var 2 sort.Int)) ∷ []); locals = []; items = ((Data (Number (pos 64)) (Var 0 sort.Val) (Of2 binary.Cons (Of unary.Vi (Var 2 sort.Int)) Nil)) ∷ []) }) }) (record { temps = (name_p ∷ name_t ∷ []); body = (c.Then (c.Call (Some 1) name_g ((c.Temp 0) ∷ [])) (c.Then (c.Return None) c.End)) }) (s.Then 1 (s.Call ((Named name_v) ∷ (Number (pos 4)) ∷ []) ([]) ([]) ([])) s.NoBlock (s.Then 2 (s.Return ((Number (pos 4)) ∷ []) ([]) ([])) s.NoBlock s.End)) ≡ (RefusedAt 1 13 6)
unfolding computing
conditions_399 = refl

conditions_400 : body_verdict (record { predicates = ([]); specs = ((record { is_void = true; name = name_g; params = (name_q ∷ []); vars = ((name_w, sort.Val) ∷ (name_n, sort.Int) ∷ []); pre = (record { opened = []; facts = ((Rel relation.Le (Number (pos 1)) (Var 1 sort.Int)) ∷ []); locals = ((name_q, (Var 0 sort.Val)) ∷ []); items = ((Data (Number (pos 64)) (Var 0 sort.Val) (Of2 binary.Cons (Of unary.Vi (Var 1 sort.Int)) Nil)) ∷ []) }); post = (record { opened = (sort.Int ∷ []); facts = ((Rel relation.Le (Var 1 sort.Int) (Var 3 sort.Int)) ∷ []); locals = []; items = ((Data (Number (pos 64)) (Var 0 sort.Val) (Of2 binary.Cons (Of unary.Vi (Var 3 sort.Int)) Nil)) ∷ []) }) }) ∷ (record { is_void = true; name = name_f; params = (name_p ∷ []); vars = ((name_v, sort.Val) ∷ []); pre = (record { opened = []; facts = ([]); locals = ((name_p, (Var 0 sort.Val)) ∷ []); items = ((Data (Number (pos 64)) (Var 0 sort.Val) (Of2 binary.Cons (Of unary.Vi (Number (pos 4))) Nil)) ∷ []) }); post = (record { opened = []; facts = ([]); locals = []; items = ([]) }) }) ∷ []) }) (record { is_void = true; name = name_f; params = (name_p ∷ []); vars = ((name_v, sort.Val) ∷ []); pre = (record { opened = []; facts = ([]); locals = ((name_p, (Var 0 sort.Val)) ∷ []); items = ((Data (Number (pos 64)) (Var 0 sort.Val) (Of2 binary.Cons (Of unary.Vi (Number (pos 4))) Nil)) ∷ []) }); post = (record { opened = []; facts = ([]); locals = []; items = ([]) }) }) (record { temps = (name_p ∷ []); body = (c.Then (c.Spawn name_g (c.Temp 0)) (c.Then (c.Return None) c.End)) }) (s.Then 1 (s.Spawn ((Named name_v) ∷ (Number (pos 4)) ∷ []) ([]) ([])) s.NoBlock (s.Then 2 (s.Return ((Number (pos 4)) ∷ []) ([]) ([])) s.NoBlock s.End)) ≡ (RefusedAt 2 9 1)
unfolding computing
conditions_400 = refl
