-- Each condition of each rule, where it holds and where it fails.
use Rattle.std.specs.Prelude.{◌≡◌, refl, pos, [], ◌∷◌, true, false, Some, None}
use Rattle.vd_terms.specs.Terms.{Number, Var, Named, Undef, Nil, Of, Of2}
use Rattle.vd_terms.specs.declared.assertion.FactOf.TheVariants.{Rel}
use Rattle.vd_terms.specs.declared.assertion.ItemOf.TheVariants.{Data, Token}
use Rattle.vd_rules.specs.Computing.{computing}
use Rattle.vd_rules.specs.Verdicts.{Accepted, RefusedAt, body_verdict}
use Rattle.vd_terms.specs.declared.operation.Unary.TheVariants as unary
use Rattle.vd_terms.specs.declared.operation.Binary.TheVariants as binary
use Rattle.vd_logic.specs.declared.term.Sort.TheVariants as sort
use Rattle.vd_logic.specs.declared.assertion.Rel.TheVariants as relation
use Rattle.vd_logic.specs.declared.step.CertLine.TheVariants as line
use Rattle.vd_logic.specs.declared.step.Forgotten.TheVariants as forgotten
use Rattle.vd_steps.specs.Code as c
use Rattle.vd_steps.specs.Script as s
use Rattle.vd_examples.specs.Names.{name_f, name_k, name_m, name_p, name_t, name_v, name_w}

conditions_201 : body_verdict (record { predicates = ([]); specs = ((record { is_void = false; name = name_f; params = (name_p ∷ []); vars = ((name_v, sort.Val) ∷ []); pre = (record { opened = []; facts = ([]); locals = ((name_p, (Var 0 sort.Val)) ∷ []); items = ((Data (Number (pos 64)) (Var 0 sort.Val) (Of2 binary.Cons (Of unary.Vi (Number (pos 4))) Nil)) ∷ []) }); post = (record { opened = []; facts = ([]); locals = []; items = ((Data (Number (pos 64)) (Var 0 sort.Val) (Of2 binary.Cons (Of unary.Vi (Number (pos 4))) Nil)) ∷ []) }) }) ∷ []) }) (record { is_void = false; name = name_f; params = (name_p ∷ []); vars = ((name_v, sort.Val) ∷ []); pre = (record { opened = []; facts = ([]); locals = ((name_p, (Var 0 sort.Val)) ∷ []); items = ((Data (Number (pos 64)) (Var 0 sort.Val) (Of2 binary.Cons (Of unary.Vi (Number (pos 4))) Nil)) ∷ []) }); post = (record { opened = []; facts = ([]); locals = []; items = ((Data (Number (pos 64)) (Var 0 sort.Val) (Of2 binary.Cons (Of unary.Vi (Number (pos 4))) Nil)) ∷ []) }) }) (record { temps = (name_p ∷ []); body = (c.Then c.Skip (c.Then (c.Return (Some (c.Const 0))) c.End)) }) (s.Then 1 (s.Meet ([]) ([])) s.NoBlock s.End) ≡ (RefusedAt 1 37 1)
unfolding computing
conditions_201 = refl

conditions_202 : body_verdict (record { predicates = ([]); specs = ((record { is_void = false; name = name_f; params = (name_p ∷ []); vars = ((name_v, sort.Val) ∷ []); pre = (record { opened = []; facts = ([]); locals = ((name_p, (Var 0 sort.Val)) ∷ []); items = ((Data (Number (pos 64)) (Var 0 sort.Val) (Of2 binary.Cons (Of unary.Vi (Number (pos 4))) Nil)) ∷ []) }); post = (record { opened = []; facts = ([]); locals = []; items = ((Data (Number (pos 64)) (Var 0 sort.Val) (Of2 binary.Cons (Of unary.Vi (Number (pos 4))) Nil)) ∷ []) }) }) ∷ []) }) (record { is_void = false; name = name_f; params = (name_p ∷ []); vars = ((name_v, sort.Val) ∷ []); pre = (record { opened = []; facts = ([]); locals = ((name_p, (Var 0 sort.Val)) ∷ []); items = ((Data (Number (pos 64)) (Var 0 sort.Val) (Of2 binary.Cons (Of unary.Vi (Number (pos 4))) Nil)) ∷ []) }); post = (record { opened = []; facts = ([]); locals = []; items = ((Data (Number (pos 64)) (Var 0 sort.Val) (Of2 binary.Cons (Of unary.Vi (Number (pos 4))) Nil)) ∷ []) }) }) (record { temps = (name_p ∷ []); body = (c.Then c.Skip (c.Then (c.Return (Some (c.Const 0))) c.End)) }) (s.Then 1 (s.Pose (record { opened = []; facts = ([]); locals = ((name_p, (Named name_v)) ∷ []); items = ((Data (Number (pos 64)) (Named name_v) (Of2 binary.Cons (Of unary.Vi (Number (pos 4))) Nil)) ∷ []) }) ([]) ([])) (s.WithBlock (s.Then 2 (s.Meet ([]) ([])) s.NoBlock s.End) s.NoBlock) (s.Then 3 s.Skip s.NoBlock (s.Then 4 (s.Return ([]) ([]) ([])) s.NoBlock s.End))) ≡ Accepted
unfolding computing
conditions_202 = refl

conditions_203 : body_verdict (record { predicates = ([]); specs = ((record { is_void = false; name = name_f; params = (name_p ∷ []); vars = ((name_v, sort.Val) ∷ []); pre = (record { opened = []; facts = ([]); locals = ((name_p, (Var 0 sort.Val)) ∷ []); items = ((Data (Number (pos 64)) (Var 0 sort.Val) (Of2 binary.Cons (Of unary.Vi (Number (pos 4))) Nil)) ∷ []) }); post = (record { opened = []; facts = ([]); locals = []; items = ((Data (Number (pos 64)) (Var 0 sort.Val) (Of2 binary.Cons (Of unary.Vi (Number (pos 4))) Nil)) ∷ []) }) }) ∷ []) }) (record { is_void = false; name = name_f; params = (name_p ∷ []); vars = ((name_v, sort.Val) ∷ []); pre = (record { opened = []; facts = ([]); locals = ((name_p, (Var 0 sort.Val)) ∷ []); items = ((Data (Number (pos 64)) (Var 0 sort.Val) (Of2 binary.Cons (Of unary.Vi (Number (pos 4))) Nil)) ∷ []) }); post = (record { opened = []; facts = ([]); locals = []; items = ((Data (Number (pos 64)) (Var 0 sort.Val) (Of2 binary.Cons (Of unary.Vi (Number (pos 4))) Nil)) ∷ []) }) }) (record { temps = (name_p ∷ []); body = (c.Then (c.Return (Some (c.Const 4))) c.End) }) (s.Then 1 (s.Return ([]) ([]) ([])) s.NoBlock s.End) ≡ Accepted
unfolding computing
conditions_203 = refl

conditions_204 : body_verdict (record { predicates = ([]); specs = ((record { is_void = false; name = name_f; params = (name_p ∷ []); vars = ((name_v, sort.Val) ∷ []); pre = (record { opened = []; facts = ([]); locals = ((name_p, (Var 0 sort.Val)) ∷ []); items = ((Data (Number (pos 64)) (Var 0 sort.Val) (Of2 binary.Cons (Of unary.Vi (Number (pos 4))) Nil)) ∷ []) }); post = (record { opened = []; facts = ([]); locals = []; items = ((Data (Number (pos 64)) (Var 0 sort.Val) (Of2 binary.Cons (Of unary.Vi (Number (pos 4))) Nil)) ∷ []) }) }) ∷ []) }) (record { is_void = false; name = name_f; params = (name_p ∷ []); vars = ((name_v, sort.Val) ∷ []); pre = (record { opened = []; facts = ([]); locals = ((name_p, (Var 0 sort.Val)) ∷ []); items = ((Data (Number (pos 64)) (Var 0 sort.Val) (Of2 binary.Cons (Of unary.Vi (Number (pos 4))) Nil)) ∷ []) }); post = (record { opened = []; facts = ([]); locals = []; items = ((Data (Number (pos 64)) (Var 0 sort.Val) (Of2 binary.Cons (Of unary.Vi (Number (pos 4))) Nil)) ∷ []) }) }) (record { temps = (name_p ∷ []); body = (c.Then (c.Return (Some (c.Const 4))) c.End) }) (s.Then 1 (s.Return ((Number (pos 4)) ∷ []) ([]) ([])) s.NoBlock s.End) ≡ (RefusedAt 1 9 1)
unfolding computing
conditions_204 = refl

conditions_205 : body_verdict (record { predicates = ([]); specs = ((record { is_void = false; name = name_f; params = (name_p ∷ []); vars = ((name_v, sort.Val) ∷ []); pre = (record { opened = []; facts = ([]); locals = ((name_p, (Var 0 sort.Val)) ∷ []); items = ((Data (Number (pos 64)) (Var 0 sort.Val) (Of2 binary.Cons (Of unary.Vi (Number (pos 4))) Nil)) ∷ []) }); post = (record { opened = []; facts = ([]); locals = []; items = ((Data (Number (pos 64)) (Var 0 sort.Val) (Of2 binary.Cons (Of unary.Vi (Number (pos 4))) Nil)) ∷ []) }) }) ∷ []) }) (record { is_void = false; name = name_f; params = (name_p ∷ []); vars = ((name_v, sort.Val) ∷ []); pre = (record { opened = []; facts = ([]); locals = ((name_p, (Var 0 sort.Val)) ∷ []); items = ((Data (Number (pos 64)) (Var 0 sort.Val) (Of2 binary.Cons (Of unary.Vi (Number (pos 4))) Nil)) ∷ []) }); post = (record { opened = []; facts = ([]); locals = []; items = ((Data (Number (pos 64)) (Var 0 sort.Val) (Of2 binary.Cons (Of unary.Vi (Number (pos 4))) Nil)) ∷ []) }) }) (record { temps = (name_p ∷ []); body = (c.Then (c.Return (Some (c.Const 4))) c.End) }) (s.Then 1 (s.Return ((Number (pos 5)) ∷ []) ([]) ([])) s.NoBlock s.End) ≡ (RefusedAt 1 9 1)
unfolding computing
conditions_205 = refl

conditions_206 : body_verdict (record { predicates = ([]); specs = ((record { is_void = false; name = name_f; params = (name_p ∷ []); vars = ((name_v, sort.Val) ∷ []); pre = (record { opened = []; facts = ([]); locals = ((name_p, (Var 0 sort.Val)) ∷ []); items = ((Data (Number (pos 64)) (Var 0 sort.Val) (Of2 binary.Cons (Of unary.Vi (Number (pos 4))) Nil)) ∷ []) }); post = (record { opened = []; facts = ([]); locals = []; items = ((Data (Number (pos 64)) (Var 0 sort.Val) (Of2 binary.Cons (Of unary.Vi (Number (pos 4))) Nil)) ∷ []) }) }) ∷ []) }) (record { is_void = false; name = name_f; params = (name_p ∷ []); vars = ((name_v, sort.Val) ∷ []); pre = (record { opened = []; facts = ([]); locals = ((name_p, (Var 0 sort.Val)) ∷ []); items = ((Data (Number (pos 64)) (Var 0 sort.Val) (Of2 binary.Cons (Of unary.Vi (Number (pos 4))) Nil)) ∷ []) }); post = (record { opened = []; facts = ([]); locals = []; items = ((Data (Number (pos 64)) (Var 0 sort.Val) (Of2 binary.Cons (Of unary.Vi (Number (pos 4))) Nil)) ∷ []) }) }) (record { temps = (name_p ∷ []); body = (c.Then (c.Return (Some (c.Const 4))) c.End) }) (s.Then 1 (s.Return ((Of unary.Vi (Number (pos 4))) ∷ []) ([]) ([])) s.NoBlock s.End) ≡ (RefusedAt 1 9 1)
unfolding computing
conditions_206 = refl

conditions_207 : body_verdict (record { predicates = ([]); specs = ((record { is_void = false; name = name_f; params = (name_p ∷ []); vars = ((name_v, sort.Val) ∷ []); pre = (record { opened = []; facts = ([]); locals = ((name_p, (Var 0 sort.Val)) ∷ []); items = ((Data (Number (pos 64)) (Var 0 sort.Val) (Of2 binary.Cons (Of unary.Vi (Number (pos 4))) Nil)) ∷ []) }); post = (record { opened = []; facts = ([]); locals = []; items = ((Data (Number (pos 64)) (Var 0 sort.Val) (Of2 binary.Cons (Of unary.Vi (Number (pos 4))) Nil)) ∷ []) }) }) ∷ []) }) (record { is_void = false; name = name_f; params = (name_p ∷ []); vars = ((name_v, sort.Val) ∷ []); pre = (record { opened = []; facts = ([]); locals = ((name_p, (Var 0 sort.Val)) ∷ []); items = ((Data (Number (pos 64)) (Var 0 sort.Val) (Of2 binary.Cons (Of unary.Vi (Number (pos 4))) Nil)) ∷ []) }); post = (record { opened = []; facts = ([]); locals = []; items = ((Data (Number (pos 64)) (Var 0 sort.Val) (Of2 binary.Cons (Of unary.Vi (Number (pos 4))) Nil)) ∷ []) }) }) (record { temps = (name_p ∷ []); body = (c.Then (c.Return (Some (c.Const 4))) c.End) }) (s.Then 1 (s.Return ((Number (pos 4)) ∷ (Number (pos 4)) ∷ []) ([]) ([])) s.NoBlock s.End) ≡ (RefusedAt 1 9 1)
unfolding computing
conditions_207 = refl

conditions_208 : body_verdict (record { predicates = ([]); specs = ((record { is_void = false; name = name_f; params = (name_p ∷ []); vars = ((name_v, sort.Val) ∷ []); pre = (record { opened = []; facts = ([]); locals = ((name_p, (Var 0 sort.Val)) ∷ []); items = ((Data (Number (pos 64)) (Var 0 sort.Val) (Of2 binary.Cons (Of unary.Vi (Number (pos 4))) Nil)) ∷ []) }); post = (record { opened = []; facts = ([]); locals = []; items = ((Data (Number (pos 64)) (Var 0 sort.Val) (Of2 binary.Cons (Of unary.Vi (Number (pos 4))) Nil)) ∷ []) }) }) ∷ []) }) (record { is_void = false; name = name_f; params = (name_p ∷ []); vars = ((name_v, sort.Val) ∷ []); pre = (record { opened = []; facts = ([]); locals = ((name_p, (Var 0 sort.Val)) ∷ []); items = ((Data (Number (pos 64)) (Var 0 sort.Val) (Of2 binary.Cons (Of unary.Vi (Number (pos 4))) Nil)) ∷ []) }); post = (record { opened = []; facts = ([]); locals = []; items = ((Data (Number (pos 64)) (Var 0 sort.Val) (Of2 binary.Cons (Of unary.Vi (Number (pos 4))) Nil)) ∷ []) }) }) (record { temps = (name_p ∷ []); body = (c.Then (c.Return (Some (c.Const 4))) c.End) }) (s.Then 1 (s.Return ((Number (pos 4)) ∷ []) (0 ∷ []) ([])) s.NoBlock s.End) ≡ (RefusedAt 1 9 1)
unfolding computing
conditions_208 = refl

conditions_209 : body_verdict (record { predicates = ([]); specs = ((record { is_void = false; name = name_f; params = (name_p ∷ []); vars = ((name_v, sort.Val) ∷ []); pre = (record { opened = []; facts = ([]); locals = ((name_p, (Var 0 sort.Val)) ∷ []); items = ((Data (Number (pos 64)) (Var 0 sort.Val) (Of2 binary.Cons (Of unary.Vi (Number (pos 4))) Nil)) ∷ []) }); post = (record { opened = (sort.Int ∷ []); facts = ((Rel relation.Eq (Var 1 sort.Val) (Of unary.Vi (Var 2 sort.Int))) ∷ (Rel relation.Le (Number (pos 4)) (Var 2 sort.Int)) ∷ []); locals = []; items = ((Data (Number (pos 64)) (Var 0 sort.Val) (Of2 binary.Cons (Of unary.Vi (Number (pos 4))) Nil)) ∷ []) }) }) ∷ []) }) (record { is_void = false; name = name_f; params = (name_p ∷ []); vars = ((name_v, sort.Val) ∷ []); pre = (record { opened = []; facts = ([]); locals = ((name_p, (Var 0 sort.Val)) ∷ []); items = ((Data (Number (pos 64)) (Var 0 sort.Val) (Of2 binary.Cons (Of unary.Vi (Number (pos 4))) Nil)) ∷ []) }); post = (record { opened = (sort.Int ∷ []); facts = ((Rel relation.Eq (Var 1 sort.Val) (Of unary.Vi (Var 2 sort.Int))) ∷ (Rel relation.Le (Number (pos 4)) (Var 2 sort.Int)) ∷ []); locals = []; items = ((Data (Number (pos 64)) (Var 0 sort.Val) (Of2 binary.Cons (Of unary.Vi (Number (pos 4))) Nil)) ∷ []) }) }) (record { temps = (name_p ∷ []); body = (c.Then (c.Return (Some (c.Const 4))) c.End) }) (s.Then 1 (s.Return ([]) ([]) ([])) s.NoBlock s.End) ≡ (RefusedAt 1 9 1)
unfolding computing
conditions_209 = refl

conditions_210 : body_verdict (record { predicates = ([]); specs = ((record { is_void = false; name = name_f; params = (name_p ∷ []); vars = ((name_v, sort.Val) ∷ []); pre = (record { opened = []; facts = ([]); locals = ((name_p, (Var 0 sort.Val)) ∷ []); items = ((Data (Number (pos 64)) (Var 0 sort.Val) (Of2 binary.Cons (Of unary.Vi (Number (pos 4))) Nil)) ∷ []) }); post = (record { opened = (sort.Int ∷ []); facts = ((Rel relation.Eq (Var 1 sort.Val) (Of unary.Vi (Var 2 sort.Int))) ∷ (Rel relation.Le (Number (pos 4)) (Var 2 sort.Int)) ∷ []); locals = []; items = ((Data (Number (pos 64)) (Var 0 sort.Val) (Of2 binary.Cons (Of unary.Vi (Number (pos 4))) Nil)) ∷ []) }) }) ∷ []) }) (record { is_void = false; name = name_f; params = (name_p ∷ []); vars = ((name_v, sort.Val) ∷ []); pre = (record { opened = []; facts = ([]); locals = ((name_p, (Var 0 sort.Val)) ∷ []); items = ((Data (Number (pos 64)) (Var 0 sort.Val) (Of2 binary.Cons (Of unary.Vi (Number (pos 4))) Nil)) ∷ []) }); post = (record { opened = (sort.Int ∷ []); facts = ((Rel relation.Eq (Var 1 sort.Val) (Of unary.Vi (Var 2 sort.Int))) ∷ (Rel relation.Le (Number (pos 4)) (Var 2 sort.Int)) ∷ []); locals = []; items = ((Data (Number (pos 64)) (Var 0 sort.Val) (Of2 binary.Cons (Of unary.Vi (Number (pos 4))) Nil)) ∷ []) }) }) (record { temps = (name_p ∷ []); body = (c.Then (c.Return (Some (c.Const 4))) c.End) }) (s.Then 1 (s.Return ((Number (pos 4)) ∷ []) ([]) ([])) s.NoBlock s.End) ≡ Accepted
unfolding computing
conditions_210 = refl

conditions_211 : body_verdict (record { predicates = ([]); specs = ((record { is_void = false; name = name_f; params = (name_p ∷ []); vars = ((name_v, sort.Val) ∷ []); pre = (record { opened = []; facts = ([]); locals = ((name_p, (Var 0 sort.Val)) ∷ []); items = ((Data (Number (pos 64)) (Var 0 sort.Val) (Of2 binary.Cons (Of unary.Vi (Number (pos 4))) Nil)) ∷ []) }); post = (record { opened = (sort.Int ∷ []); facts = ((Rel relation.Eq (Var 1 sort.Val) (Of unary.Vi (Var 2 sort.Int))) ∷ (Rel relation.Le (Number (pos 4)) (Var 2 sort.Int)) ∷ []); locals = []; items = ((Data (Number (pos 64)) (Var 0 sort.Val) (Of2 binary.Cons (Of unary.Vi (Number (pos 4))) Nil)) ∷ []) }) }) ∷ []) }) (record { is_void = false; name = name_f; params = (name_p ∷ []); vars = ((name_v, sort.Val) ∷ []); pre = (record { opened = []; facts = ([]); locals = ((name_p, (Var 0 sort.Val)) ∷ []); items = ((Data (Number (pos 64)) (Var 0 sort.Val) (Of2 binary.Cons (Of unary.Vi (Number (pos 4))) Nil)) ∷ []) }); post = (record { opened = (sort.Int ∷ []); facts = ((Rel relation.Eq (Var 1 sort.Val) (Of unary.Vi (Var 2 sort.Int))) ∷ (Rel relation.Le (Number (pos 4)) (Var 2 sort.Int)) ∷ []); locals = []; items = ((Data (Number (pos 64)) (Var 0 sort.Val) (Of2 binary.Cons (Of unary.Vi (Number (pos 4))) Nil)) ∷ []) }) }) (record { temps = (name_p ∷ []); body = (c.Then (c.Return (Some (c.Const 4))) c.End) }) (s.Then 1 (s.Return ((Number (pos 5)) ∷ []) ([]) ([])) s.NoBlock s.End) ≡ (RefusedAt 1 9 3)
unfolding computing
conditions_211 = refl

conditions_212 : body_verdict (record { predicates = ([]); specs = ((record { is_void = false; name = name_f; params = (name_p ∷ []); vars = ((name_v, sort.Val) ∷ []); pre = (record { opened = []; facts = ([]); locals = ((name_p, (Var 0 sort.Val)) ∷ []); items = ((Data (Number (pos 64)) (Var 0 sort.Val) (Of2 binary.Cons (Of unary.Vi (Number (pos 4))) Nil)) ∷ []) }); post = (record { opened = (sort.Int ∷ []); facts = ((Rel relation.Eq (Var 1 sort.Val) (Of unary.Vi (Var 2 sort.Int))) ∷ (Rel relation.Le (Number (pos 4)) (Var 2 sort.Int)) ∷ []); locals = []; items = ((Data (Number (pos 64)) (Var 0 sort.Val) (Of2 binary.Cons (Of unary.Vi (Number (pos 4))) Nil)) ∷ []) }) }) ∷ []) }) (record { is_void = false; name = name_f; params = (name_p ∷ []); vars = ((name_v, sort.Val) ∷ []); pre = (record { opened = []; facts = ([]); locals = ((name_p, (Var 0 sort.Val)) ∷ []); items = ((Data (Number (pos 64)) (Var 0 sort.Val) (Of2 binary.Cons (Of unary.Vi (Number (pos 4))) Nil)) ∷ []) }); post = (record { opened = (sort.Int ∷ []); facts = ((Rel relation.Eq (Var 1 sort.Val) (Of unary.Vi (Var 2 sort.Int))) ∷ (Rel relation.Le (Number (pos 4)) (Var 2 sort.Int)) ∷ []); locals = []; items = ((Data (Number (pos 64)) (Var 0 sort.Val) (Of2 binary.Cons (Of unary.Vi (Number (pos 4))) Nil)) ∷ []) }) }) (record { temps = (name_p ∷ []); body = (c.Then (c.Return (Some (c.Const 4))) c.End) }) (s.Then 1 (s.Return ((Of unary.Vi (Number (pos 4))) ∷ []) ([]) ([])) s.NoBlock s.End) ≡ (RefusedAt 1 9 1)
unfolding computing
conditions_212 = refl

conditions_213 : body_verdict (record { predicates = ([]); specs = ((record { is_void = false; name = name_f; params = (name_p ∷ []); vars = ((name_v, sort.Val) ∷ []); pre = (record { opened = []; facts = ([]); locals = ((name_p, (Var 0 sort.Val)) ∷ []); items = ((Data (Number (pos 64)) (Var 0 sort.Val) (Of2 binary.Cons (Of unary.Vi (Number (pos 4))) Nil)) ∷ []) }); post = (record { opened = (sort.Int ∷ []); facts = ((Rel relation.Eq (Var 1 sort.Val) (Of unary.Vi (Var 2 sort.Int))) ∷ (Rel relation.Le (Number (pos 4)) (Var 2 sort.Int)) ∷ []); locals = []; items = ((Data (Number (pos 64)) (Var 0 sort.Val) (Of2 binary.Cons (Of unary.Vi (Number (pos 4))) Nil)) ∷ []) }) }) ∷ []) }) (record { is_void = false; name = name_f; params = (name_p ∷ []); vars = ((name_v, sort.Val) ∷ []); pre = (record { opened = []; facts = ([]); locals = ((name_p, (Var 0 sort.Val)) ∷ []); items = ((Data (Number (pos 64)) (Var 0 sort.Val) (Of2 binary.Cons (Of unary.Vi (Number (pos 4))) Nil)) ∷ []) }); post = (record { opened = (sort.Int ∷ []); facts = ((Rel relation.Eq (Var 1 sort.Val) (Of unary.Vi (Var 2 sort.Int))) ∷ (Rel relation.Le (Number (pos 4)) (Var 2 sort.Int)) ∷ []); locals = []; items = ((Data (Number (pos 64)) (Var 0 sort.Val) (Of2 binary.Cons (Of unary.Vi (Number (pos 4))) Nil)) ∷ []) }) }) (record { temps = (name_p ∷ []); body = (c.Then (c.Return (Some (c.Const 4))) c.End) }) (s.Then 1 (s.Return ((Number (pos 4)) ∷ (Number (pos 4)) ∷ []) ([]) ([])) s.NoBlock s.End) ≡ (RefusedAt 1 9 1)
unfolding computing
conditions_213 = refl

conditions_214 : body_verdict (record { predicates = ([]); specs = ((record { is_void = false; name = name_f; params = (name_p ∷ []); vars = ((name_v, sort.Val) ∷ []); pre = (record { opened = []; facts = ([]); locals = ((name_p, (Var 0 sort.Val)) ∷ []); items = ((Data (Number (pos 64)) (Var 0 sort.Val) (Of2 binary.Cons (Of unary.Vi (Number (pos 4))) Nil)) ∷ []) }); post = (record { opened = (sort.Int ∷ []); facts = ((Rel relation.Eq (Var 1 sort.Val) (Of unary.Vi (Var 2 sort.Int))) ∷ (Rel relation.Le (Number (pos 4)) (Var 2 sort.Int)) ∷ []); locals = []; items = ((Data (Number (pos 64)) (Var 0 sort.Val) (Of2 binary.Cons (Of unary.Vi (Number (pos 4))) Nil)) ∷ []) }) }) ∷ []) }) (record { is_void = false; name = name_f; params = (name_p ∷ []); vars = ((name_v, sort.Val) ∷ []); pre = (record { opened = []; facts = ([]); locals = ((name_p, (Var 0 sort.Val)) ∷ []); items = ((Data (Number (pos 64)) (Var 0 sort.Val) (Of2 binary.Cons (Of unary.Vi (Number (pos 4))) Nil)) ∷ []) }); post = (record { opened = (sort.Int ∷ []); facts = ((Rel relation.Eq (Var 1 sort.Val) (Of unary.Vi (Var 2 sort.Int))) ∷ (Rel relation.Le (Number (pos 4)) (Var 2 sort.Int)) ∷ []); locals = []; items = ((Data (Number (pos 64)) (Var 0 sort.Val) (Of2 binary.Cons (Of unary.Vi (Number (pos 4))) Nil)) ∷ []) }) }) (record { temps = (name_p ∷ []); body = (c.Then (c.Return (Some (c.Const 4))) c.End) }) (s.Then 1 (s.Return ((Number (pos 4)) ∷ []) (0 ∷ []) ([])) s.NoBlock s.End) ≡ (RefusedAt 1 9 1)
unfolding computing
conditions_214 = refl

conditions_215 : body_verdict (record { predicates = ([]); specs = ((record { is_void = false; name = name_f; params = (name_p ∷ []); vars = ((name_v, sort.Val) ∷ []); pre = (record { opened = []; facts = ([]); locals = ((name_p, (Var 0 sort.Val)) ∷ []); items = ((Data (Number (pos 64)) (Var 0 sort.Val) (Of2 binary.Cons (Of unary.Vi (Number (pos 4))) Nil)) ∷ []) }); post = (record { opened = (sort.Int ∷ []); facts = ((Rel relation.Eq (Var 1 sort.Val) (Of unary.Vi (Var 2 sort.Int))) ∷ (Rel relation.Le (Number (pos 5)) (Var 2 sort.Int)) ∷ []); locals = []; items = ((Data (Number (pos 64)) (Var 0 sort.Val) (Of2 binary.Cons (Of unary.Vi (Number (pos 4))) Nil)) ∷ []) }) }) ∷ []) }) (record { is_void = false; name = name_f; params = (name_p ∷ []); vars = ((name_v, sort.Val) ∷ []); pre = (record { opened = []; facts = ([]); locals = ((name_p, (Var 0 sort.Val)) ∷ []); items = ((Data (Number (pos 64)) (Var 0 sort.Val) (Of2 binary.Cons (Of unary.Vi (Number (pos 4))) Nil)) ∷ []) }); post = (record { opened = (sort.Int ∷ []); facts = ((Rel relation.Eq (Var 1 sort.Val) (Of unary.Vi (Var 2 sort.Int))) ∷ (Rel relation.Le (Number (pos 5)) (Var 2 sort.Int)) ∷ []); locals = []; items = ((Data (Number (pos 64)) (Var 0 sort.Val) (Of2 binary.Cons (Of unary.Vi (Number (pos 4))) Nil)) ∷ []) }) }) (record { temps = (name_p ∷ []); body = (c.Then (c.Return (Some (c.Const 4))) c.End) }) (s.Then 1 (s.Return ([]) ([]) ([])) s.NoBlock s.End) ≡ (RefusedAt 1 9 1)
unfolding computing
conditions_215 = refl

conditions_216 : body_verdict (record { predicates = ([]); specs = ((record { is_void = false; name = name_f; params = (name_p ∷ []); vars = ((name_v, sort.Val) ∷ []); pre = (record { opened = []; facts = ([]); locals = ((name_p, (Var 0 sort.Val)) ∷ []); items = ((Data (Number (pos 64)) (Var 0 sort.Val) (Of2 binary.Cons (Of unary.Vi (Number (pos 4))) Nil)) ∷ []) }); post = (record { opened = (sort.Int ∷ []); facts = ((Rel relation.Eq (Var 1 sort.Val) (Of unary.Vi (Var 2 sort.Int))) ∷ (Rel relation.Le (Number (pos 5)) (Var 2 sort.Int)) ∷ []); locals = []; items = ((Data (Number (pos 64)) (Var 0 sort.Val) (Of2 binary.Cons (Of unary.Vi (Number (pos 4))) Nil)) ∷ []) }) }) ∷ []) }) (record { is_void = false; name = name_f; params = (name_p ∷ []); vars = ((name_v, sort.Val) ∷ []); pre = (record { opened = []; facts = ([]); locals = ((name_p, (Var 0 sort.Val)) ∷ []); items = ((Data (Number (pos 64)) (Var 0 sort.Val) (Of2 binary.Cons (Of unary.Vi (Number (pos 4))) Nil)) ∷ []) }); post = (record { opened = (sort.Int ∷ []); facts = ((Rel relation.Eq (Var 1 sort.Val) (Of unary.Vi (Var 2 sort.Int))) ∷ (Rel relation.Le (Number (pos 5)) (Var 2 sort.Int)) ∷ []); locals = []; items = ((Data (Number (pos 64)) (Var 0 sort.Val) (Of2 binary.Cons (Of unary.Vi (Number (pos 4))) Nil)) ∷ []) }) }) (record { temps = (name_p ∷ []); body = (c.Then (c.Return (Some (c.Const 4))) c.End) }) (s.Then 1 (s.Return ((Number (pos 4)) ∷ []) ([]) ([])) s.NoBlock s.End) ≡ (RefusedAt 1 9 3)
unfolding computing
conditions_216 = refl

conditions_217 : body_verdict (record { predicates = ([]); specs = ((record { is_void = false; name = name_f; params = (name_p ∷ []); vars = ((name_v, sort.Val) ∷ []); pre = (record { opened = []; facts = ([]); locals = ((name_p, (Var 0 sort.Val)) ∷ []); items = ((Data (Number (pos 64)) (Var 0 sort.Val) (Of2 binary.Cons (Of unary.Vi (Number (pos 4))) Nil)) ∷ []) }); post = (record { opened = (sort.Int ∷ []); facts = ((Rel relation.Eq (Var 1 sort.Val) (Of unary.Vi (Var 2 sort.Int))) ∷ (Rel relation.Le (Number (pos 5)) (Var 2 sort.Int)) ∷ []); locals = []; items = ((Data (Number (pos 64)) (Var 0 sort.Val) (Of2 binary.Cons (Of unary.Vi (Number (pos 4))) Nil)) ∷ []) }) }) ∷ []) }) (record { is_void = false; name = name_f; params = (name_p ∷ []); vars = ((name_v, sort.Val) ∷ []); pre = (record { opened = []; facts = ([]); locals = ((name_p, (Var 0 sort.Val)) ∷ []); items = ((Data (Number (pos 64)) (Var 0 sort.Val) (Of2 binary.Cons (Of unary.Vi (Number (pos 4))) Nil)) ∷ []) }); post = (record { opened = (sort.Int ∷ []); facts = ((Rel relation.Eq (Var 1 sort.Val) (Of unary.Vi (Var 2 sort.Int))) ∷ (Rel relation.Le (Number (pos 5)) (Var 2 sort.Int)) ∷ []); locals = []; items = ((Data (Number (pos 64)) (Var 0 sort.Val) (Of2 binary.Cons (Of unary.Vi (Number (pos 4))) Nil)) ∷ []) }) }) (record { temps = (name_p ∷ []); body = (c.Then (c.Return (Some (c.Const 4))) c.End) }) (s.Then 1 (s.Return ((Number (pos 5)) ∷ []) ([]) ([])) s.NoBlock s.End) ≡ (RefusedAt 1 9 3)
unfolding computing
conditions_217 = refl

conditions_218 : body_verdict (record { predicates = ([]); specs = ((record { is_void = false; name = name_f; params = (name_p ∷ []); vars = ((name_v, sort.Val) ∷ []); pre = (record { opened = []; facts = ([]); locals = ((name_p, (Var 0 sort.Val)) ∷ []); items = ((Data (Number (pos 64)) (Var 0 sort.Val) (Of2 binary.Cons (Of unary.Vi (Number (pos 4))) Nil)) ∷ []) }); post = (record { opened = (sort.Int ∷ []); facts = ((Rel relation.Eq (Var 1 sort.Val) (Of unary.Vi (Var 2 sort.Int))) ∷ (Rel relation.Le (Number (pos 5)) (Var 2 sort.Int)) ∷ []); locals = []; items = ((Data (Number (pos 64)) (Var 0 sort.Val) (Of2 binary.Cons (Of unary.Vi (Number (pos 4))) Nil)) ∷ []) }) }) ∷ []) }) (record { is_void = false; name = name_f; params = (name_p ∷ []); vars = ((name_v, sort.Val) ∷ []); pre = (record { opened = []; facts = ([]); locals = ((name_p, (Var 0 sort.Val)) ∷ []); items = ((Data (Number (pos 64)) (Var 0 sort.Val) (Of2 binary.Cons (Of unary.Vi (Number (pos 4))) Nil)) ∷ []) }); post = (record { opened = (sort.Int ∷ []); facts = ((Rel relation.Eq (Var 1 sort.Val) (Of unary.Vi (Var 2 sort.Int))) ∷ (Rel relation.Le (Number (pos 5)) (Var 2 sort.Int)) ∷ []); locals = []; items = ((Data (Number (pos 64)) (Var 0 sort.Val) (Of2 binary.Cons (Of unary.Vi (Number (pos 4))) Nil)) ∷ []) }) }) (record { temps = (name_p ∷ []); body = (c.Then (c.Return (Some (c.Const 4))) c.End) }) (s.Then 1 (s.Return ((Of unary.Vi (Number (pos 4))) ∷ []) ([]) ([])) s.NoBlock s.End) ≡ (RefusedAt 1 9 1)
unfolding computing
conditions_218 = refl

conditions_219 : body_verdict (record { predicates = ([]); specs = ((record { is_void = false; name = name_f; params = (name_p ∷ []); vars = ((name_v, sort.Val) ∷ []); pre = (record { opened = []; facts = ([]); locals = ((name_p, (Var 0 sort.Val)) ∷ []); items = ((Data (Number (pos 64)) (Var 0 sort.Val) (Of2 binary.Cons (Of unary.Vi (Number (pos 4))) Nil)) ∷ []) }); post = (record { opened = (sort.Int ∷ []); facts = ((Rel relation.Eq (Var 1 sort.Val) (Of unary.Vi (Var 2 sort.Int))) ∷ (Rel relation.Le (Number (pos 5)) (Var 2 sort.Int)) ∷ []); locals = []; items = ((Data (Number (pos 64)) (Var 0 sort.Val) (Of2 binary.Cons (Of unary.Vi (Number (pos 4))) Nil)) ∷ []) }) }) ∷ []) }) (record { is_void = false; name = name_f; params = (name_p ∷ []); vars = ((name_v, sort.Val) ∷ []); pre = (record { opened = []; facts = ([]); locals = ((name_p, (Var 0 sort.Val)) ∷ []); items = ((Data (Number (pos 64)) (Var 0 sort.Val) (Of2 binary.Cons (Of unary.Vi (Number (pos 4))) Nil)) ∷ []) }); post = (record { opened = (sort.Int ∷ []); facts = ((Rel relation.Eq (Var 1 sort.Val) (Of unary.Vi (Var 2 sort.Int))) ∷ (Rel relation.Le (Number (pos 5)) (Var 2 sort.Int)) ∷ []); locals = []; items = ((Data (Number (pos 64)) (Var 0 sort.Val) (Of2 binary.Cons (Of unary.Vi (Number (pos 4))) Nil)) ∷ []) }) }) (record { temps = (name_p ∷ []); body = (c.Then (c.Return (Some (c.Const 4))) c.End) }) (s.Then 1 (s.Return ((Number (pos 4)) ∷ (Number (pos 4)) ∷ []) ([]) ([])) s.NoBlock s.End) ≡ (RefusedAt 1 9 1)
unfolding computing
conditions_219 = refl

conditions_220 : body_verdict (record { predicates = ([]); specs = ((record { is_void = false; name = name_f; params = (name_p ∷ []); vars = ((name_v, sort.Val) ∷ []); pre = (record { opened = []; facts = ([]); locals = ((name_p, (Var 0 sort.Val)) ∷ []); items = ((Data (Number (pos 64)) (Var 0 sort.Val) (Of2 binary.Cons (Of unary.Vi (Number (pos 4))) Nil)) ∷ []) }); post = (record { opened = (sort.Int ∷ []); facts = ((Rel relation.Eq (Var 1 sort.Val) (Of unary.Vi (Var 2 sort.Int))) ∷ (Rel relation.Le (Number (pos 5)) (Var 2 sort.Int)) ∷ []); locals = []; items = ((Data (Number (pos 64)) (Var 0 sort.Val) (Of2 binary.Cons (Of unary.Vi (Number (pos 4))) Nil)) ∷ []) }) }) ∷ []) }) (record { is_void = false; name = name_f; params = (name_p ∷ []); vars = ((name_v, sort.Val) ∷ []); pre = (record { opened = []; facts = ([]); locals = ((name_p, (Var 0 sort.Val)) ∷ []); items = ((Data (Number (pos 64)) (Var 0 sort.Val) (Of2 binary.Cons (Of unary.Vi (Number (pos 4))) Nil)) ∷ []) }); post = (record { opened = (sort.Int ∷ []); facts = ((Rel relation.Eq (Var 1 sort.Val) (Of unary.Vi (Var 2 sort.Int))) ∷ (Rel relation.Le (Number (pos 5)) (Var 2 sort.Int)) ∷ []); locals = []; items = ((Data (Number (pos 64)) (Var 0 sort.Val) (Of2 binary.Cons (Of unary.Vi (Number (pos 4))) Nil)) ∷ []) }) }) (record { temps = (name_p ∷ []); body = (c.Then (c.Return (Some (c.Const 4))) c.End) }) (s.Then 1 (s.Return ((Number (pos 4)) ∷ []) (0 ∷ []) ([])) s.NoBlock s.End) ≡ (RefusedAt 1 9 1)
unfolding computing
conditions_220 = refl

conditions_221 : body_verdict (record { predicates = ([]); specs = ((record { is_void = true; name = name_f; params = (name_p ∷ []); vars = ((name_v, sort.Val) ∷ []); pre = (record { opened = []; facts = ([]); locals = ((name_p, (Var 0 sort.Val)) ∷ []); items = ((Data (Number (pos 64)) (Var 0 sort.Val) (Of2 binary.Cons (Of unary.Vi (Number (pos 4))) Nil)) ∷ []) }); post = (record { opened = []; facts = ([]); locals = []; items = ((Data (Number (pos 64)) (Var 0 sort.Val) (Of2 binary.Cons (Of unary.Vi (Number (pos 4))) Nil)) ∷ []) }) }) ∷ []) }) (record { is_void = true; name = name_f; params = (name_p ∷ []); vars = ((name_v, sort.Val) ∷ []); pre = (record { opened = []; facts = ([]); locals = ((name_p, (Var 0 sort.Val)) ∷ []); items = ((Data (Number (pos 64)) (Var 0 sort.Val) (Of2 binary.Cons (Of unary.Vi (Number (pos 4))) Nil)) ∷ []) }); post = (record { opened = []; facts = ([]); locals = []; items = ((Data (Number (pos 64)) (Var 0 sort.Val) (Of2 binary.Cons (Of unary.Vi (Number (pos 4))) Nil)) ∷ []) }) }) (record { temps = (name_p ∷ []); body = (c.Then c.Skip c.End) }) (s.Then 1 (s.Fall ([]) ([])) s.NoBlock s.End) ≡ (RefusedAt 1 10 1)
unfolding computing
conditions_221 = refl

conditions_222 : body_verdict (record { predicates = ([]); specs = ((record { is_void = true; name = name_f; params = (name_p ∷ []); vars = ((name_v, sort.Val) ∷ []); pre = (record { opened = []; facts = ([]); locals = ((name_p, (Var 0 sort.Val)) ∷ []); items = ((Data (Number (pos 64)) (Var 0 sort.Val) (Of2 binary.Cons (Of unary.Vi (Number (pos 4))) Nil)) ∷ []) }); post = (record { opened = []; facts = ((Rel relation.Eq (Var 1 sort.Val) Undef) ∷ []); locals = []; items = ((Data (Number (pos 64)) (Var 0 sort.Val) (Of2 binary.Cons (Of unary.Vi (Number (pos 4))) Nil)) ∷ []) }) }) ∷ []) }) (record { is_void = true; name = name_f; params = (name_p ∷ []); vars = ((name_v, sort.Val) ∷ []); pre = (record { opened = []; facts = ([]); locals = ((name_p, (Var 0 sort.Val)) ∷ []); items = ((Data (Number (pos 64)) (Var 0 sort.Val) (Of2 binary.Cons (Of unary.Vi (Number (pos 4))) Nil)) ∷ []) }); post = (record { opened = []; facts = ((Rel relation.Eq (Var 1 sort.Val) Undef) ∷ []); locals = []; items = ((Data (Number (pos 64)) (Var 0 sort.Val) (Of2 binary.Cons (Of unary.Vi (Number (pos 4))) Nil)) ∷ []) }) }) (record { temps = (name_p ∷ []); body = (c.Then c.Skip c.End) }) (s.Then 1 (s.Fall ([]) ([])) s.NoBlock s.End) ≡ (RefusedAt 1 10 1)
unfolding computing
conditions_222 = refl

conditions_223 : body_verdict (record { predicates = ([]); specs = ((record { is_void = true; name = name_f; params = (name_p ∷ []); vars = ((name_v, sort.Val) ∷ []); pre = (record { opened = []; facts = ([]); locals = ((name_p, (Var 0 sort.Val)) ∷ []); items = ((Data (Number (pos 64)) (Var 0 sort.Val) (Of2 binary.Cons (Of unary.Vi (Number (pos 4))) Nil)) ∷ []) }); post = (record { opened = []; facts = ((Rel relation.Le (Number (pos 1)) (Number (pos 0))) ∷ []); locals = []; items = ((Data (Number (pos 64)) (Var 0 sort.Val) (Of2 binary.Cons (Of unary.Vi (Number (pos 4))) Nil)) ∷ []) }) }) ∷ []) }) (record { is_void = true; name = name_f; params = (name_p ∷ []); vars = ((name_v, sort.Val) ∷ []); pre = (record { opened = []; facts = ([]); locals = ((name_p, (Var 0 sort.Val)) ∷ []); items = ((Data (Number (pos 64)) (Var 0 sort.Val) (Of2 binary.Cons (Of unary.Vi (Number (pos 4))) Nil)) ∷ []) }); post = (record { opened = []; facts = ((Rel relation.Le (Number (pos 1)) (Number (pos 0))) ∷ []); locals = []; items = ((Data (Number (pos 64)) (Var 0 sort.Val) (Of2 binary.Cons (Of unary.Vi (Number (pos 4))) Nil)) ∷ []) }) }) (record { temps = (name_p ∷ []); body = (c.Then c.Skip c.End) }) (s.Then 1 (s.Fall ([]) ([])) s.NoBlock s.End) ≡ (RefusedAt 1 10 1)
unfolding computing
conditions_223 = refl

conditions_224 : body_verdict (record { predicates = ([]); specs = ((record { is_void = true; name = name_f; params = (name_p ∷ []); vars = ((name_v, sort.Val) ∷ []); pre = (record { opened = []; facts = ([]); locals = ((name_p, (Var 0 sort.Val)) ∷ []); items = ((Data (Number (pos 64)) (Var 0 sort.Val) (Of2 binary.Cons (Of unary.Vi (Number (pos 4))) Nil)) ∷ []) }); post = (record { opened = []; facts = ([]); locals = []; items = ((Data (Number (pos 64)) (Var 0 sort.Val) (Of2 binary.Cons (Of unary.Vi (Number (pos 4))) Nil)) ∷ []) }) }) ∷ []) }) (record { is_void = true; name = name_f; params = (name_p ∷ []); vars = ((name_v, sort.Val) ∷ []); pre = (record { opened = []; facts = ([]); locals = ((name_p, (Var 0 sort.Val)) ∷ []); items = ((Data (Number (pos 64)) (Var 0 sort.Val) (Of2 binary.Cons (Of unary.Vi (Number (pos 4))) Nil)) ∷ []) }); post = (record { opened = []; facts = ([]); locals = []; items = ((Data (Number (pos 64)) (Var 0 sort.Val) (Of2 binary.Cons (Of unary.Vi (Number (pos 4))) Nil)) ∷ []) }) }) (record { temps = (name_p ∷ []); body = (c.Then c.Skip (c.Then (c.Return None) c.End)) }) (s.Then 1 (s.Fall ([]) ([])) s.NoBlock s.End) ≡ (RefusedAt 1 10 1)
unfolding computing
conditions_224 = refl

conditions_225 : body_verdict (record { predicates = ([]); specs = ((record { is_void = true; name = name_f; params = (name_p ∷ []); vars = ((name_v, sort.Val) ∷ []); pre = (record { opened = []; facts = ([]); locals = ((name_p, (Var 0 sort.Val)) ∷ []); items = ((Data (Number (pos 64)) (Var 0 sort.Val) (Of2 binary.Cons (Of unary.Vi (Number (pos 4))) Nil)) ∷ []) }); post = (record { opened = []; facts = ((Rel relation.Eq (Var 1 sort.Val) Undef) ∷ []); locals = []; items = ((Data (Number (pos 64)) (Var 0 sort.Val) (Of2 binary.Cons (Of unary.Vi (Number (pos 4))) Nil)) ∷ []) }) }) ∷ []) }) (record { is_void = true; name = name_f; params = (name_p ∷ []); vars = ((name_v, sort.Val) ∷ []); pre = (record { opened = []; facts = ([]); locals = ((name_p, (Var 0 sort.Val)) ∷ []); items = ((Data (Number (pos 64)) (Var 0 sort.Val) (Of2 binary.Cons (Of unary.Vi (Number (pos 4))) Nil)) ∷ []) }); post = (record { opened = []; facts = ((Rel relation.Eq (Var 1 sort.Val) Undef) ∷ []); locals = []; items = ((Data (Number (pos 64)) (Var 0 sort.Val) (Of2 binary.Cons (Of unary.Vi (Number (pos 4))) Nil)) ∷ []) }) }) (record { temps = (name_p ∷ []); body = (c.Then c.Skip (c.Then (c.Return None) c.End)) }) (s.Then 1 (s.Fall ([]) ([])) s.NoBlock s.End) ≡ (RefusedAt 1 10 1)
unfolding computing
conditions_225 = refl

conditions_226 : body_verdict (record { predicates = ([]); specs = ((record { is_void = true; name = name_f; params = (name_p ∷ []); vars = ((name_v, sort.Val) ∷ []); pre = (record { opened = []; facts = ([]); locals = ((name_p, (Var 0 sort.Val)) ∷ []); items = ((Data (Number (pos 64)) (Var 0 sort.Val) (Of2 binary.Cons (Of unary.Vi (Number (pos 4))) Nil)) ∷ []) }); post = (record { opened = []; facts = ((Rel relation.Le (Number (pos 1)) (Number (pos 0))) ∷ []); locals = []; items = ((Data (Number (pos 64)) (Var 0 sort.Val) (Of2 binary.Cons (Of unary.Vi (Number (pos 4))) Nil)) ∷ []) }) }) ∷ []) }) (record { is_void = true; name = name_f; params = (name_p ∷ []); vars = ((name_v, sort.Val) ∷ []); pre = (record { opened = []; facts = ([]); locals = ((name_p, (Var 0 sort.Val)) ∷ []); items = ((Data (Number (pos 64)) (Var 0 sort.Val) (Of2 binary.Cons (Of unary.Vi (Number (pos 4))) Nil)) ∷ []) }); post = (record { opened = []; facts = ((Rel relation.Le (Number (pos 1)) (Number (pos 0))) ∷ []); locals = []; items = ((Data (Number (pos 64)) (Var 0 sort.Val) (Of2 binary.Cons (Of unary.Vi (Number (pos 4))) Nil)) ∷ []) }) }) (record { temps = (name_p ∷ []); body = (c.Then c.Skip (c.Then (c.Return None) c.End)) }) (s.Then 1 (s.Fall ([]) ([])) s.NoBlock s.End) ≡ (RefusedAt 1 10 1)
unfolding computing
conditions_226 = refl

conditions_227 : body_verdict (record { predicates = ([]); specs = ((record { is_void = true; name = name_f; params = (name_p ∷ []); vars = ((name_v, sort.Val) ∷ []); pre = (record { opened = []; facts = ([]); locals = ((name_p, (Var 0 sort.Val)) ∷ []); items = ((Data (Number (pos 64)) (Var 0 sort.Val) (Of2 binary.Cons (Of unary.Vi (Number (pos 4))) Nil)) ∷ []) }); post = (record { opened = []; facts = ([]); locals = []; items = ((Data (Number (pos 64)) (Var 0 sort.Val) (Of2 binary.Cons (Of unary.Vi (Number (pos 4))) Nil)) ∷ []) }) }) ∷ []) }) (record { is_void = true; name = name_f; params = (name_p ∷ []); vars = ((name_v, sort.Val) ∷ []); pre = (record { opened = []; facts = ([]); locals = ((name_p, (Var 0 sort.Val)) ∷ []); items = ((Data (Number (pos 64)) (Var 0 sort.Val) (Of2 binary.Cons (Of unary.Vi (Number (pos 4))) Nil)) ∷ []) }); post = (record { opened = []; facts = ([]); locals = []; items = ((Data (Number (pos 64)) (Var 0 sort.Val) (Of2 binary.Cons (Of unary.Vi (Number (pos 4))) Nil)) ∷ []) }) }) (record { temps = (name_p ∷ []); body = (c.Then c.Skip c.End) }) (s.Then 1 (s.Return ([]) ([]) ([])) s.NoBlock s.End) ≡ (RefusedAt 1 9 1)
unfolding computing
conditions_227 = refl

conditions_228 : body_verdict (record { predicates = ([]); specs = ((record { is_void = true; name = name_f; params = (name_p ∷ []); vars = ((name_v, sort.Val) ∷ []); pre = (record { opened = []; facts = ([]); locals = ((name_p, (Var 0 sort.Val)) ∷ []); items = ((Data (Number (pos 64)) (Var 0 sort.Val) (Of2 binary.Cons (Of unary.Vi (Number (pos 4))) Nil)) ∷ []) }); post = (record { opened = []; facts = ((Rel relation.Eq (Var 1 sort.Val) Undef) ∷ []); locals = []; items = ((Data (Number (pos 64)) (Var 0 sort.Val) (Of2 binary.Cons (Of unary.Vi (Number (pos 4))) Nil)) ∷ []) }) }) ∷ []) }) (record { is_void = true; name = name_f; params = (name_p ∷ []); vars = ((name_v, sort.Val) ∷ []); pre = (record { opened = []; facts = ([]); locals = ((name_p, (Var 0 sort.Val)) ∷ []); items = ((Data (Number (pos 64)) (Var 0 sort.Val) (Of2 binary.Cons (Of unary.Vi (Number (pos 4))) Nil)) ∷ []) }); post = (record { opened = []; facts = ((Rel relation.Eq (Var 1 sort.Val) Undef) ∷ []); locals = []; items = ((Data (Number (pos 64)) (Var 0 sort.Val) (Of2 binary.Cons (Of unary.Vi (Number (pos 4))) Nil)) ∷ []) }) }) (record { temps = (name_p ∷ []); body = (c.Then c.Skip c.End) }) (s.Then 1 (s.Return ([]) ([]) ([])) s.NoBlock s.End) ≡ (RefusedAt 1 9 1)
unfolding computing
conditions_228 = refl

conditions_229 : body_verdict (record { predicates = ([]); specs = ((record { is_void = true; name = name_f; params = (name_p ∷ []); vars = ((name_v, sort.Val) ∷ []); pre = (record { opened = []; facts = ([]); locals = ((name_p, (Var 0 sort.Val)) ∷ []); items = ((Data (Number (pos 64)) (Var 0 sort.Val) (Of2 binary.Cons (Of unary.Vi (Number (pos 4))) Nil)) ∷ []) }); post = (record { opened = []; facts = ((Rel relation.Le (Number (pos 1)) (Number (pos 0))) ∷ []); locals = []; items = ((Data (Number (pos 64)) (Var 0 sort.Val) (Of2 binary.Cons (Of unary.Vi (Number (pos 4))) Nil)) ∷ []) }) }) ∷ []) }) (record { is_void = true; name = name_f; params = (name_p ∷ []); vars = ((name_v, sort.Val) ∷ []); pre = (record { opened = []; facts = ([]); locals = ((name_p, (Var 0 sort.Val)) ∷ []); items = ((Data (Number (pos 64)) (Var 0 sort.Val) (Of2 binary.Cons (Of unary.Vi (Number (pos 4))) Nil)) ∷ []) }); post = (record { opened = []; facts = ((Rel relation.Le (Number (pos 1)) (Number (pos 0))) ∷ []); locals = []; items = ((Data (Number (pos 64)) (Var 0 sort.Val) (Of2 binary.Cons (Of unary.Vi (Number (pos 4))) Nil)) ∷ []) }) }) (record { temps = (name_p ∷ []); body = (c.Then c.Skip c.End) }) (s.Then 1 (s.Return ([]) ([]) ([])) s.NoBlock s.End) ≡ (RefusedAt 1 9 1)
unfolding computing
conditions_229 = refl

conditions_230 : body_verdict (record { predicates = ([]); specs = ((record { is_void = true; name = name_f; params = (name_p ∷ []); vars = ((name_v, sort.Val) ∷ []); pre = (record { opened = []; facts = ([]); locals = ((name_p, (Var 0 sort.Val)) ∷ []); items = ((Data (Number (pos 64)) (Var 0 sort.Val) (Of2 binary.Cons (Of unary.Vi (Number (pos 4))) Nil)) ∷ []) }); post = (record { opened = []; facts = ([]); locals = []; items = ((Data (Number (pos 64)) (Var 0 sort.Val) (Of2 binary.Cons (Of unary.Vi (Number (pos 4))) Nil)) ∷ []) }) }) ∷ []) }) (record { is_void = true; name = name_f; params = (name_p ∷ []); vars = ((name_v, sort.Val) ∷ []); pre = (record { opened = []; facts = ([]); locals = ((name_p, (Var 0 sort.Val)) ∷ []); items = ((Data (Number (pos 64)) (Var 0 sort.Val) (Of2 binary.Cons (Of unary.Vi (Number (pos 4))) Nil)) ∷ []) }); post = (record { opened = []; facts = ([]); locals = []; items = ((Data (Number (pos 64)) (Var 0 sort.Val) (Of2 binary.Cons (Of unary.Vi (Number (pos 4))) Nil)) ∷ []) }) }) (record { temps = (name_p ∷ []); body = (c.Then c.Skip (c.Then (c.Return None) c.End)) }) (s.Then 1 (s.Return ([]) ([]) ([])) s.NoBlock s.End) ≡ (RefusedAt 1 9 1)
unfolding computing
conditions_230 = refl

conditions_231 : body_verdict (record { predicates = ([]); specs = ((record { is_void = true; name = name_f; params = (name_p ∷ []); vars = ((name_v, sort.Val) ∷ []); pre = (record { opened = []; facts = ([]); locals = ((name_p, (Var 0 sort.Val)) ∷ []); items = ((Data (Number (pos 64)) (Var 0 sort.Val) (Of2 binary.Cons (Of unary.Vi (Number (pos 4))) Nil)) ∷ []) }); post = (record { opened = []; facts = ((Rel relation.Eq (Var 1 sort.Val) Undef) ∷ []); locals = []; items = ((Data (Number (pos 64)) (Var 0 sort.Val) (Of2 binary.Cons (Of unary.Vi (Number (pos 4))) Nil)) ∷ []) }) }) ∷ []) }) (record { is_void = true; name = name_f; params = (name_p ∷ []); vars = ((name_v, sort.Val) ∷ []); pre = (record { opened = []; facts = ([]); locals = ((name_p, (Var 0 sort.Val)) ∷ []); items = ((Data (Number (pos 64)) (Var 0 sort.Val) (Of2 binary.Cons (Of unary.Vi (Number (pos 4))) Nil)) ∷ []) }); post = (record { opened = []; facts = ((Rel relation.Eq (Var 1 sort.Val) Undef) ∷ []); locals = []; items = ((Data (Number (pos 64)) (Var 0 sort.Val) (Of2 binary.Cons (Of unary.Vi (Number (pos 4))) Nil)) ∷ []) }) }) (record { temps = (name_p ∷ []); body = (c.Then c.Skip (c.Then (c.Return None) c.End)) }) (s.Then 1 (s.Return ([]) ([]) ([])) s.NoBlock s.End) ≡ (RefusedAt 1 9 1)
unfolding computing
conditions_231 = refl

conditions_232 : body_verdict (record { predicates = ([]); specs = ((record { is_void = true; name = name_f; params = (name_p ∷ []); vars = ((name_v, sort.Val) ∷ []); pre = (record { opened = []; facts = ([]); locals = ((name_p, (Var 0 sort.Val)) ∷ []); items = ((Data (Number (pos 64)) (Var 0 sort.Val) (Of2 binary.Cons (Of unary.Vi (Number (pos 4))) Nil)) ∷ []) }); post = (record { opened = []; facts = ((Rel relation.Le (Number (pos 1)) (Number (pos 0))) ∷ []); locals = []; items = ((Data (Number (pos 64)) (Var 0 sort.Val) (Of2 binary.Cons (Of unary.Vi (Number (pos 4))) Nil)) ∷ []) }) }) ∷ []) }) (record { is_void = true; name = name_f; params = (name_p ∷ []); vars = ((name_v, sort.Val) ∷ []); pre = (record { opened = []; facts = ([]); locals = ((name_p, (Var 0 sort.Val)) ∷ []); items = ((Data (Number (pos 64)) (Var 0 sort.Val) (Of2 binary.Cons (Of unary.Vi (Number (pos 4))) Nil)) ∷ []) }); post = (record { opened = []; facts = ((Rel relation.Le (Number (pos 1)) (Number (pos 0))) ∷ []); locals = []; items = ((Data (Number (pos 64)) (Var 0 sort.Val) (Of2 binary.Cons (Of unary.Vi (Number (pos 4))) Nil)) ∷ []) }) }) (record { temps = (name_p ∷ []); body = (c.Then c.Skip (c.Then (c.Return None) c.End)) }) (s.Then 1 (s.Return ([]) ([]) ([])) s.NoBlock s.End) ≡ (RefusedAt 1 9 1)
unfolding computing
conditions_232 = refl

conditions_233 : body_verdict (record { predicates = ([]); specs = ((record { is_void = true; name = name_f; params = (name_p ∷ []); vars = ((name_v, sort.Val) ∷ []); pre = (record { opened = []; facts = ([]); locals = ((name_p, (Var 0 sort.Val)) ∷ []); items = ((Data (Number (pos 64)) (Var 0 sort.Val) (Of2 binary.Cons (Of unary.Vi (Number (pos 4))) Nil)) ∷ []) }); post = (record { opened = []; facts = ([]); locals = []; items = ((Data (Number (pos 64)) (Var 0 sort.Val) (Of2 binary.Cons (Of unary.Vi (Number (pos 4))) Nil)) ∷ []) }) }) ∷ []) }) (record { is_void = true; name = name_f; params = (name_p ∷ []); vars = ((name_v, sort.Val) ∷ []); pre = (record { opened = []; facts = ([]); locals = ((name_p, (Var 0 sort.Val)) ∷ []); items = ((Data (Number (pos 64)) (Var 0 sort.Val) (Of2 binary.Cons (Of unary.Vi (Number (pos 4))) Nil)) ∷ []) }); post = (record { opened = []; facts = ([]); locals = []; items = ((Data (Number (pos 64)) (Var 0 sort.Val) (Of2 binary.Cons (Of unary.Vi (Number (pos 4))) Nil)) ∷ []) }) }) (record { temps = (name_p ∷ []); body = (c.Then c.Skip c.End) }) (s.Then 1 s.Skip s.NoBlock (s.Then 2 (s.Fall ([]) ([])) s.NoBlock s.End)) ≡ Accepted
unfolding computing
conditions_233 = refl

conditions_234 : body_verdict (record { predicates = ([]); specs = ((record { is_void = true; name = name_f; params = (name_p ∷ []); vars = ((name_v, sort.Val) ∷ []); pre = (record { opened = []; facts = ([]); locals = ((name_p, (Var 0 sort.Val)) ∷ []); items = ((Data (Number (pos 64)) (Var 0 sort.Val) (Of2 binary.Cons (Of unary.Vi (Number (pos 4))) Nil)) ∷ []) }); post = (record { opened = []; facts = ((Rel relation.Eq (Var 1 sort.Val) Undef) ∷ []); locals = []; items = ((Data (Number (pos 64)) (Var 0 sort.Val) (Of2 binary.Cons (Of unary.Vi (Number (pos 4))) Nil)) ∷ []) }) }) ∷ []) }) (record { is_void = true; name = name_f; params = (name_p ∷ []); vars = ((name_v, sort.Val) ∷ []); pre = (record { opened = []; facts = ([]); locals = ((name_p, (Var 0 sort.Val)) ∷ []); items = ((Data (Number (pos 64)) (Var 0 sort.Val) (Of2 binary.Cons (Of unary.Vi (Number (pos 4))) Nil)) ∷ []) }); post = (record { opened = []; facts = ((Rel relation.Eq (Var 1 sort.Val) Undef) ∷ []); locals = []; items = ((Data (Number (pos 64)) (Var 0 sort.Val) (Of2 binary.Cons (Of unary.Vi (Number (pos 4))) Nil)) ∷ []) }) }) (record { temps = (name_p ∷ []); body = (c.Then c.Skip c.End) }) (s.Then 1 s.Skip s.NoBlock (s.Then 2 (s.Fall ([]) ([])) s.NoBlock s.End)) ≡ Accepted
unfolding computing
conditions_234 = refl

conditions_235 : body_verdict (record { predicates = ([]); specs = ((record { is_void = true; name = name_f; params = (name_p ∷ []); vars = ((name_v, sort.Val) ∷ []); pre = (record { opened = []; facts = ([]); locals = ((name_p, (Var 0 sort.Val)) ∷ []); items = ((Data (Number (pos 64)) (Var 0 sort.Val) (Of2 binary.Cons (Of unary.Vi (Number (pos 4))) Nil)) ∷ []) }); post = (record { opened = []; facts = ((Rel relation.Le (Number (pos 1)) (Number (pos 0))) ∷ []); locals = []; items = ((Data (Number (pos 64)) (Var 0 sort.Val) (Of2 binary.Cons (Of unary.Vi (Number (pos 4))) Nil)) ∷ []) }) }) ∷ []) }) (record { is_void = true; name = name_f; params = (name_p ∷ []); vars = ((name_v, sort.Val) ∷ []); pre = (record { opened = []; facts = ([]); locals = ((name_p, (Var 0 sort.Val)) ∷ []); items = ((Data (Number (pos 64)) (Var 0 sort.Val) (Of2 binary.Cons (Of unary.Vi (Number (pos 4))) Nil)) ∷ []) }); post = (record { opened = []; facts = ((Rel relation.Le (Number (pos 1)) (Number (pos 0))) ∷ []); locals = []; items = ((Data (Number (pos 64)) (Var 0 sort.Val) (Of2 binary.Cons (Of unary.Vi (Number (pos 4))) Nil)) ∷ []) }) }) (record { temps = (name_p ∷ []); body = (c.Then c.Skip c.End) }) (s.Then 1 s.Skip s.NoBlock (s.Then 2 (s.Fall ([]) ([])) s.NoBlock s.End)) ≡ (RefusedAt 2 10 3)
unfolding computing
conditions_235 = refl

conditions_236 : body_verdict (record { predicates = ([]); specs = ((record { is_void = true; name = name_f; params = (name_p ∷ []); vars = ((name_v, sort.Val) ∷ []); pre = (record { opened = []; facts = ([]); locals = ((name_p, (Var 0 sort.Val)) ∷ []); items = ((Data (Number (pos 64)) (Var 0 sort.Val) (Of2 binary.Cons (Of unary.Vi (Number (pos 4))) Nil)) ∷ []) }); post = (record { opened = []; facts = ([]); locals = []; items = ((Data (Number (pos 64)) (Var 0 sort.Val) (Of2 binary.Cons (Of unary.Vi (Number (pos 4))) Nil)) ∷ []) }) }) ∷ []) }) (record { is_void = true; name = name_f; params = (name_p ∷ []); vars = ((name_v, sort.Val) ∷ []); pre = (record { opened = []; facts = ([]); locals = ((name_p, (Var 0 sort.Val)) ∷ []); items = ((Data (Number (pos 64)) (Var 0 sort.Val) (Of2 binary.Cons (Of unary.Vi (Number (pos 4))) Nil)) ∷ []) }); post = (record { opened = []; facts = ([]); locals = []; items = ((Data (Number (pos 64)) (Var 0 sort.Val) (Of2 binary.Cons (Of unary.Vi (Number (pos 4))) Nil)) ∷ []) }) }) (record { temps = (name_p ∷ []); body = (c.Then c.Skip (c.Then (c.Return None) c.End)) }) (s.Then 1 s.Skip s.NoBlock (s.Then 2 (s.Fall ([]) ([])) s.NoBlock s.End)) ≡ (RefusedAt 2 10 1)
unfolding computing
conditions_236 = refl

conditions_237 : body_verdict (record { predicates = ([]); specs = ((record { is_void = true; name = name_f; params = (name_p ∷ []); vars = ((name_v, sort.Val) ∷ []); pre = (record { opened = []; facts = ([]); locals = ((name_p, (Var 0 sort.Val)) ∷ []); items = ((Data (Number (pos 64)) (Var 0 sort.Val) (Of2 binary.Cons (Of unary.Vi (Number (pos 4))) Nil)) ∷ []) }); post = (record { opened = []; facts = ((Rel relation.Eq (Var 1 sort.Val) Undef) ∷ []); locals = []; items = ((Data (Number (pos 64)) (Var 0 sort.Val) (Of2 binary.Cons (Of unary.Vi (Number (pos 4))) Nil)) ∷ []) }) }) ∷ []) }) (record { is_void = true; name = name_f; params = (name_p ∷ []); vars = ((name_v, sort.Val) ∷ []); pre = (record { opened = []; facts = ([]); locals = ((name_p, (Var 0 sort.Val)) ∷ []); items = ((Data (Number (pos 64)) (Var 0 sort.Val) (Of2 binary.Cons (Of unary.Vi (Number (pos 4))) Nil)) ∷ []) }); post = (record { opened = []; facts = ((Rel relation.Eq (Var 1 sort.Val) Undef) ∷ []); locals = []; items = ((Data (Number (pos 64)) (Var 0 sort.Val) (Of2 binary.Cons (Of unary.Vi (Number (pos 4))) Nil)) ∷ []) }) }) (record { temps = (name_p ∷ []); body = (c.Then c.Skip (c.Then (c.Return None) c.End)) }) (s.Then 1 s.Skip s.NoBlock (s.Then 2 (s.Fall ([]) ([])) s.NoBlock s.End)) ≡ (RefusedAt 2 10 1)
unfolding computing
conditions_237 = refl

conditions_238 : body_verdict (record { predicates = ([]); specs = ((record { is_void = true; name = name_f; params = (name_p ∷ []); vars = ((name_v, sort.Val) ∷ []); pre = (record { opened = []; facts = ([]); locals = ((name_p, (Var 0 sort.Val)) ∷ []); items = ((Data (Number (pos 64)) (Var 0 sort.Val) (Of2 binary.Cons (Of unary.Vi (Number (pos 4))) Nil)) ∷ []) }); post = (record { opened = []; facts = ((Rel relation.Le (Number (pos 1)) (Number (pos 0))) ∷ []); locals = []; items = ((Data (Number (pos 64)) (Var 0 sort.Val) (Of2 binary.Cons (Of unary.Vi (Number (pos 4))) Nil)) ∷ []) }) }) ∷ []) }) (record { is_void = true; name = name_f; params = (name_p ∷ []); vars = ((name_v, sort.Val) ∷ []); pre = (record { opened = []; facts = ([]); locals = ((name_p, (Var 0 sort.Val)) ∷ []); items = ((Data (Number (pos 64)) (Var 0 sort.Val) (Of2 binary.Cons (Of unary.Vi (Number (pos 4))) Nil)) ∷ []) }); post = (record { opened = []; facts = ((Rel relation.Le (Number (pos 1)) (Number (pos 0))) ∷ []); locals = []; items = ((Data (Number (pos 64)) (Var 0 sort.Val) (Of2 binary.Cons (Of unary.Vi (Number (pos 4))) Nil)) ∷ []) }) }) (record { temps = (name_p ∷ []); body = (c.Then c.Skip (c.Then (c.Return None) c.End)) }) (s.Then 1 s.Skip s.NoBlock (s.Then 2 (s.Fall ([]) ([])) s.NoBlock s.End)) ≡ (RefusedAt 2 10 1)
unfolding computing
conditions_238 = refl

conditions_239 : body_verdict (record { predicates = ([]); specs = ((record { is_void = true; name = name_f; params = (name_p ∷ []); vars = ((name_v, sort.Val) ∷ []); pre = (record { opened = []; facts = ([]); locals = ((name_p, (Var 0 sort.Val)) ∷ []); items = ((Data (Number (pos 64)) (Var 0 sort.Val) (Of2 binary.Cons (Of unary.Vi (Number (pos 4))) Nil)) ∷ []) }); post = (record { opened = []; facts = ([]); locals = []; items = ((Data (Number (pos 64)) (Var 0 sort.Val) (Of2 binary.Cons (Of unary.Vi (Number (pos 4))) Nil)) ∷ []) }) }) ∷ []) }) (record { is_void = true; name = name_f; params = (name_p ∷ []); vars = ((name_v, sort.Val) ∷ []); pre = (record { opened = []; facts = ([]); locals = ((name_p, (Var 0 sort.Val)) ∷ []); items = ((Data (Number (pos 64)) (Var 0 sort.Val) (Of2 binary.Cons (Of unary.Vi (Number (pos 4))) Nil)) ∷ []) }); post = (record { opened = []; facts = ([]); locals = []; items = ((Data (Number (pos 64)) (Var 0 sort.Val) (Of2 binary.Cons (Of unary.Vi (Number (pos 4))) Nil)) ∷ []) }) }) (record { temps = (name_p ∷ []); body = (c.Then c.Skip c.End) }) (s.Then 1 s.Skip s.NoBlock (s.Then 2 (s.Return ([]) ([]) ([])) s.NoBlock s.End)) ≡ (RefusedAt 2 9 1)
unfolding computing
conditions_239 = refl

conditions_240 : body_verdict (record { predicates = ([]); specs = ((record { is_void = true; name = name_f; params = (name_p ∷ []); vars = ((name_v, sort.Val) ∷ []); pre = (record { opened = []; facts = ([]); locals = ((name_p, (Var 0 sort.Val)) ∷ []); items = ((Data (Number (pos 64)) (Var 0 sort.Val) (Of2 binary.Cons (Of unary.Vi (Number (pos 4))) Nil)) ∷ []) }); post = (record { opened = []; facts = ((Rel relation.Eq (Var 1 sort.Val) Undef) ∷ []); locals = []; items = ((Data (Number (pos 64)) (Var 0 sort.Val) (Of2 binary.Cons (Of unary.Vi (Number (pos 4))) Nil)) ∷ []) }) }) ∷ []) }) (record { is_void = true; name = name_f; params = (name_p ∷ []); vars = ((name_v, sort.Val) ∷ []); pre = (record { opened = []; facts = ([]); locals = ((name_p, (Var 0 sort.Val)) ∷ []); items = ((Data (Number (pos 64)) (Var 0 sort.Val) (Of2 binary.Cons (Of unary.Vi (Number (pos 4))) Nil)) ∷ []) }); post = (record { opened = []; facts = ((Rel relation.Eq (Var 1 sort.Val) Undef) ∷ []); locals = []; items = ((Data (Number (pos 64)) (Var 0 sort.Val) (Of2 binary.Cons (Of unary.Vi (Number (pos 4))) Nil)) ∷ []) }) }) (record { temps = (name_p ∷ []); body = (c.Then c.Skip c.End) }) (s.Then 1 s.Skip s.NoBlock (s.Then 2 (s.Return ([]) ([]) ([])) s.NoBlock s.End)) ≡ (RefusedAt 2 9 1)
unfolding computing
conditions_240 = refl

conditions_241 : body_verdict (record { predicates = ([]); specs = ((record { is_void = true; name = name_f; params = (name_p ∷ []); vars = ((name_v, sort.Val) ∷ []); pre = (record { opened = []; facts = ([]); locals = ((name_p, (Var 0 sort.Val)) ∷ []); items = ((Data (Number (pos 64)) (Var 0 sort.Val) (Of2 binary.Cons (Of unary.Vi (Number (pos 4))) Nil)) ∷ []) }); post = (record { opened = []; facts = ((Rel relation.Le (Number (pos 1)) (Number (pos 0))) ∷ []); locals = []; items = ((Data (Number (pos 64)) (Var 0 sort.Val) (Of2 binary.Cons (Of unary.Vi (Number (pos 4))) Nil)) ∷ []) }) }) ∷ []) }) (record { is_void = true; name = name_f; params = (name_p ∷ []); vars = ((name_v, sort.Val) ∷ []); pre = (record { opened = []; facts = ([]); locals = ((name_p, (Var 0 sort.Val)) ∷ []); items = ((Data (Number (pos 64)) (Var 0 sort.Val) (Of2 binary.Cons (Of unary.Vi (Number (pos 4))) Nil)) ∷ []) }); post = (record { opened = []; facts = ((Rel relation.Le (Number (pos 1)) (Number (pos 0))) ∷ []); locals = []; items = ((Data (Number (pos 64)) (Var 0 sort.Val) (Of2 binary.Cons (Of unary.Vi (Number (pos 4))) Nil)) ∷ []) }) }) (record { temps = (name_p ∷ []); body = (c.Then c.Skip c.End) }) (s.Then 1 s.Skip s.NoBlock (s.Then 2 (s.Return ([]) ([]) ([])) s.NoBlock s.End)) ≡ (RefusedAt 2 9 1)
unfolding computing
conditions_241 = refl

conditions_242 : body_verdict (record { predicates = ([]); specs = ((record { is_void = true; name = name_f; params = (name_p ∷ []); vars = ((name_v, sort.Val) ∷ []); pre = (record { opened = []; facts = ([]); locals = ((name_p, (Var 0 sort.Val)) ∷ []); items = ((Data (Number (pos 64)) (Var 0 sort.Val) (Of2 binary.Cons (Of unary.Vi (Number (pos 4))) Nil)) ∷ []) }); post = (record { opened = []; facts = ([]); locals = []; items = ((Data (Number (pos 64)) (Var 0 sort.Val) (Of2 binary.Cons (Of unary.Vi (Number (pos 4))) Nil)) ∷ []) }) }) ∷ []) }) (record { is_void = true; name = name_f; params = (name_p ∷ []); vars = ((name_v, sort.Val) ∷ []); pre = (record { opened = []; facts = ([]); locals = ((name_p, (Var 0 sort.Val)) ∷ []); items = ((Data (Number (pos 64)) (Var 0 sort.Val) (Of2 binary.Cons (Of unary.Vi (Number (pos 4))) Nil)) ∷ []) }); post = (record { opened = []; facts = ([]); locals = []; items = ((Data (Number (pos 64)) (Var 0 sort.Val) (Of2 binary.Cons (Of unary.Vi (Number (pos 4))) Nil)) ∷ []) }) }) (record { temps = (name_p ∷ []); body = (c.Then c.Skip (c.Then (c.Return None) c.End)) }) (s.Then 1 s.Skip s.NoBlock (s.Then 2 (s.Return ([]) ([]) ([])) s.NoBlock s.End)) ≡ Accepted
unfolding computing
conditions_242 = refl

conditions_243 : body_verdict (record { predicates = ([]); specs = ((record { is_void = true; name = name_f; params = (name_p ∷ []); vars = ((name_v, sort.Val) ∷ []); pre = (record { opened = []; facts = ([]); locals = ((name_p, (Var 0 sort.Val)) ∷ []); items = ((Data (Number (pos 64)) (Var 0 sort.Val) (Of2 binary.Cons (Of unary.Vi (Number (pos 4))) Nil)) ∷ []) }); post = (record { opened = []; facts = ((Rel relation.Eq (Var 1 sort.Val) Undef) ∷ []); locals = []; items = ((Data (Number (pos 64)) (Var 0 sort.Val) (Of2 binary.Cons (Of unary.Vi (Number (pos 4))) Nil)) ∷ []) }) }) ∷ []) }) (record { is_void = true; name = name_f; params = (name_p ∷ []); vars = ((name_v, sort.Val) ∷ []); pre = (record { opened = []; facts = ([]); locals = ((name_p, (Var 0 sort.Val)) ∷ []); items = ((Data (Number (pos 64)) (Var 0 sort.Val) (Of2 binary.Cons (Of unary.Vi (Number (pos 4))) Nil)) ∷ []) }); post = (record { opened = []; facts = ((Rel relation.Eq (Var 1 sort.Val) Undef) ∷ []); locals = []; items = ((Data (Number (pos 64)) (Var 0 sort.Val) (Of2 binary.Cons (Of unary.Vi (Number (pos 4))) Nil)) ∷ []) }) }) (record { temps = (name_p ∷ []); body = (c.Then c.Skip (c.Then (c.Return None) c.End)) }) (s.Then 1 s.Skip s.NoBlock (s.Then 2 (s.Return ([]) ([]) ([])) s.NoBlock s.End)) ≡ Accepted
unfolding computing
conditions_243 = refl

conditions_244 : body_verdict (record { predicates = ([]); specs = ((record { is_void = true; name = name_f; params = (name_p ∷ []); vars = ((name_v, sort.Val) ∷ []); pre = (record { opened = []; facts = ([]); locals = ((name_p, (Var 0 sort.Val)) ∷ []); items = ((Data (Number (pos 64)) (Var 0 sort.Val) (Of2 binary.Cons (Of unary.Vi (Number (pos 4))) Nil)) ∷ []) }); post = (record { opened = []; facts = ((Rel relation.Le (Number (pos 1)) (Number (pos 0))) ∷ []); locals = []; items = ((Data (Number (pos 64)) (Var 0 sort.Val) (Of2 binary.Cons (Of unary.Vi (Number (pos 4))) Nil)) ∷ []) }) }) ∷ []) }) (record { is_void = true; name = name_f; params = (name_p ∷ []); vars = ((name_v, sort.Val) ∷ []); pre = (record { opened = []; facts = ([]); locals = ((name_p, (Var 0 sort.Val)) ∷ []); items = ((Data (Number (pos 64)) (Var 0 sort.Val) (Of2 binary.Cons (Of unary.Vi (Number (pos 4))) Nil)) ∷ []) }); post = (record { opened = []; facts = ((Rel relation.Le (Number (pos 1)) (Number (pos 0))) ∷ []); locals = []; items = ((Data (Number (pos 64)) (Var 0 sort.Val) (Of2 binary.Cons (Of unary.Vi (Number (pos 4))) Nil)) ∷ []) }) }) (record { temps = (name_p ∷ []); body = (c.Then c.Skip (c.Then (c.Return None) c.End)) }) (s.Then 1 s.Skip s.NoBlock (s.Then 2 (s.Return ([]) ([]) ([])) s.NoBlock s.End)) ≡ (RefusedAt 2 9 3)
unfolding computing
conditions_244 = refl

conditions_245 : body_verdict (record { predicates = ([]); specs = ((record { is_void = true; name = name_f; params = (name_p ∷ []); vars = ((name_v, sort.Val) ∷ []); pre = (record { opened = []; facts = ([]); locals = ((name_p, (Var 0 sort.Val)) ∷ []); items = ((Data (Number (pos 64)) (Var 0 sort.Val) (Of2 binary.Cons (Of unary.Vi (Number (pos 4))) Nil)) ∷ []) }); post = (record { opened = []; facts = ([]); locals = []; items = ((Data (Number (pos 64)) (Var 0 sort.Val) (Of2 binary.Cons (Of unary.Vi (Number (pos 4))) Nil)) ∷ []) }) }) ∷ []) }) (record { is_void = true; name = name_f; params = (name_p ∷ []); vars = ((name_v, sort.Val) ∷ []); pre = (record { opened = []; facts = ([]); locals = ((name_p, (Var 0 sort.Val)) ∷ []); items = ((Data (Number (pos 64)) (Var 0 sort.Val) (Of2 binary.Cons (Of unary.Vi (Number (pos 4))) Nil)) ∷ []) }); post = (record { opened = []; facts = ([]); locals = []; items = ((Data (Number (pos 64)) (Var 0 sort.Val) (Of2 binary.Cons (Of unary.Vi (Number (pos 4))) Nil)) ∷ []) }) }) (record { temps = (name_p ∷ []); body = (c.Then c.Skip c.End) }) (s.Then 1 s.Skip s.NoBlock (s.Then 2 (s.Share 0 (Number (pos 32)) ([])) s.NoBlock (s.Then 3 (s.Fall ([]) ([])) s.NoBlock s.End))) ≡ (RefusedAt 3 10 5)
unfolding computing
conditions_245 = refl

conditions_246 : body_verdict (record { predicates = ([]); specs = ((record { is_void = true; name = name_f; params = (name_p ∷ []); vars = ((name_v, sort.Val) ∷ []); pre = (record { opened = []; facts = ([]); locals = ((name_p, (Var 0 sort.Val)) ∷ []); items = ((Data (Number (pos 64)) (Var 0 sort.Val) (Of2 binary.Cons (Of unary.Vi (Number (pos 4))) Nil)) ∷ []) }); post = (record { opened = []; facts = ((Rel relation.Eq (Var 1 sort.Val) Undef) ∷ []); locals = []; items = ((Data (Number (pos 64)) (Var 0 sort.Val) (Of2 binary.Cons (Of unary.Vi (Number (pos 4))) Nil)) ∷ []) }) }) ∷ []) }) (record { is_void = true; name = name_f; params = (name_p ∷ []); vars = ((name_v, sort.Val) ∷ []); pre = (record { opened = []; facts = ([]); locals = ((name_p, (Var 0 sort.Val)) ∷ []); items = ((Data (Number (pos 64)) (Var 0 sort.Val) (Of2 binary.Cons (Of unary.Vi (Number (pos 4))) Nil)) ∷ []) }); post = (record { opened = []; facts = ((Rel relation.Eq (Var 1 sort.Val) Undef) ∷ []); locals = []; items = ((Data (Number (pos 64)) (Var 0 sort.Val) (Of2 binary.Cons (Of unary.Vi (Number (pos 4))) Nil)) ∷ []) }) }) (record { temps = (name_p ∷ []); body = (c.Then c.Skip c.End) }) (s.Then 1 s.Skip s.NoBlock (s.Then 2 (s.Share 0 (Number (pos 32)) ([])) s.NoBlock (s.Then 3 (s.Fall ([]) ([])) s.NoBlock s.End))) ≡ (RefusedAt 3 10 5)
unfolding computing
conditions_246 = refl

conditions_247 : body_verdict (record { predicates = ([]); specs = ((record { is_void = true; name = name_f; params = (name_p ∷ []); vars = ((name_v, sort.Val) ∷ []); pre = (record { opened = []; facts = ([]); locals = ((name_p, (Var 0 sort.Val)) ∷ []); items = ((Data (Number (pos 64)) (Var 0 sort.Val) (Of2 binary.Cons (Of unary.Vi (Number (pos 4))) Nil)) ∷ []) }); post = (record { opened = []; facts = ((Rel relation.Le (Number (pos 1)) (Number (pos 0))) ∷ []); locals = []; items = ((Data (Number (pos 64)) (Var 0 sort.Val) (Of2 binary.Cons (Of unary.Vi (Number (pos 4))) Nil)) ∷ []) }) }) ∷ []) }) (record { is_void = true; name = name_f; params = (name_p ∷ []); vars = ((name_v, sort.Val) ∷ []); pre = (record { opened = []; facts = ([]); locals = ((name_p, (Var 0 sort.Val)) ∷ []); items = ((Data (Number (pos 64)) (Var 0 sort.Val) (Of2 binary.Cons (Of unary.Vi (Number (pos 4))) Nil)) ∷ []) }); post = (record { opened = []; facts = ((Rel relation.Le (Number (pos 1)) (Number (pos 0))) ∷ []); locals = []; items = ((Data (Number (pos 64)) (Var 0 sort.Val) (Of2 binary.Cons (Of unary.Vi (Number (pos 4))) Nil)) ∷ []) }) }) (record { temps = (name_p ∷ []); body = (c.Then c.Skip c.End) }) (s.Then 1 s.Skip s.NoBlock (s.Then 2 (s.Share 0 (Number (pos 32)) ([])) s.NoBlock (s.Then 3 (s.Fall ([]) ([])) s.NoBlock s.End))) ≡ (RefusedAt 3 10 3)
unfolding computing
conditions_247 = refl

conditions_248 : body_verdict (record { predicates = ([]); specs = ((record { is_void = true; name = name_f; params = (name_p ∷ []); vars = ((name_v, sort.Val) ∷ []); pre = (record { opened = []; facts = ([]); locals = ((name_p, (Var 0 sort.Val)) ∷ []); items = ((Data (Number (pos 64)) (Var 0 sort.Val) (Of2 binary.Cons (Of unary.Vi (Number (pos 4))) Nil)) ∷ []) }); post = (record { opened = []; facts = ([]); locals = []; items = ((Data (Number (pos 64)) (Var 0 sort.Val) (Of2 binary.Cons (Of unary.Vi (Number (pos 4))) Nil)) ∷ []) }) }) ∷ []) }) (record { is_void = true; name = name_f; params = (name_p ∷ []); vars = ((name_v, sort.Val) ∷ []); pre = (record { opened = []; facts = ([]); locals = ((name_p, (Var 0 sort.Val)) ∷ []); items = ((Data (Number (pos 64)) (Var 0 sort.Val) (Of2 binary.Cons (Of unary.Vi (Number (pos 4))) Nil)) ∷ []) }); post = (record { opened = []; facts = ([]); locals = []; items = ((Data (Number (pos 64)) (Var 0 sort.Val) (Of2 binary.Cons (Of unary.Vi (Number (pos 4))) Nil)) ∷ []) }) }) (record { temps = (name_p ∷ []); body = (c.Then c.Skip (c.Then (c.Return None) c.End)) }) (s.Then 1 s.Skip s.NoBlock (s.Then 2 (s.Share 0 (Number (pos 32)) ([])) s.NoBlock (s.Then 3 (s.Fall ([]) ([])) s.NoBlock s.End))) ≡ (RefusedAt 3 10 1)
unfolding computing
conditions_248 = refl

conditions_249 : body_verdict (record { predicates = ([]); specs = ((record { is_void = true; name = name_f; params = (name_p ∷ []); vars = ((name_v, sort.Val) ∷ []); pre = (record { opened = []; facts = ([]); locals = ((name_p, (Var 0 sort.Val)) ∷ []); items = ((Data (Number (pos 64)) (Var 0 sort.Val) (Of2 binary.Cons (Of unary.Vi (Number (pos 4))) Nil)) ∷ []) }); post = (record { opened = []; facts = ((Rel relation.Eq (Var 1 sort.Val) Undef) ∷ []); locals = []; items = ((Data (Number (pos 64)) (Var 0 sort.Val) (Of2 binary.Cons (Of unary.Vi (Number (pos 4))) Nil)) ∷ []) }) }) ∷ []) }) (record { is_void = true; name = name_f; params = (name_p ∷ []); vars = ((name_v, sort.Val) ∷ []); pre = (record { opened = []; facts = ([]); locals = ((name_p, (Var 0 sort.Val)) ∷ []); items = ((Data (Number (pos 64)) (Var 0 sort.Val) (Of2 binary.Cons (Of unary.Vi (Number (pos 4))) Nil)) ∷ []) }); post = (record { opened = []; facts = ((Rel relation.Eq (Var 1 sort.Val) Undef) ∷ []); locals = []; items = ((Data (Number (pos 64)) (Var 0 sort.Val) (Of2 binary.Cons (Of unary.Vi (Number (pos 4))) Nil)) ∷ []) }) }) (record { temps = (name_p ∷ []); body = (c.Then c.Skip (c.Then (c.Return None) c.End)) }) (s.Then 1 s.Skip s.NoBlock (s.Then 2 (s.Share 0 (Number (pos 32)) ([])) s.NoBlock (s.Then 3 (s.Fall ([]) ([])) s.NoBlock s.End))) ≡ (RefusedAt 3 10 1)
unfolding computing
conditions_249 = refl

conditions_250 : body_verdict (record { predicates = ([]); specs = ((record { is_void = true; name = name_f; params = (name_p ∷ []); vars = ((name_v, sort.Val) ∷ []); pre = (record { opened = []; facts = ([]); locals = ((name_p, (Var 0 sort.Val)) ∷ []); items = ((Data (Number (pos 64)) (Var 0 sort.Val) (Of2 binary.Cons (Of unary.Vi (Number (pos 4))) Nil)) ∷ []) }); post = (record { opened = []; facts = ((Rel relation.Le (Number (pos 1)) (Number (pos 0))) ∷ []); locals = []; items = ((Data (Number (pos 64)) (Var 0 sort.Val) (Of2 binary.Cons (Of unary.Vi (Number (pos 4))) Nil)) ∷ []) }) }) ∷ []) }) (record { is_void = true; name = name_f; params = (name_p ∷ []); vars = ((name_v, sort.Val) ∷ []); pre = (record { opened = []; facts = ([]); locals = ((name_p, (Var 0 sort.Val)) ∷ []); items = ((Data (Number (pos 64)) (Var 0 sort.Val) (Of2 binary.Cons (Of unary.Vi (Number (pos 4))) Nil)) ∷ []) }); post = (record { opened = []; facts = ((Rel relation.Le (Number (pos 1)) (Number (pos 0))) ∷ []); locals = []; items = ((Data (Number (pos 64)) (Var 0 sort.Val) (Of2 binary.Cons (Of unary.Vi (Number (pos 4))) Nil)) ∷ []) }) }) (record { temps = (name_p ∷ []); body = (c.Then c.Skip (c.Then (c.Return None) c.End)) }) (s.Then 1 s.Skip s.NoBlock (s.Then 2 (s.Share 0 (Number (pos 32)) ([])) s.NoBlock (s.Then 3 (s.Fall ([]) ([])) s.NoBlock s.End))) ≡ (RefusedAt 3 10 1)
unfolding computing
conditions_250 = refl

conditions_251 : body_verdict (record { predicates = ([]); specs = ((record { is_void = true; name = name_f; params = (name_p ∷ []); vars = ((name_v, sort.Val) ∷ []); pre = (record { opened = []; facts = ([]); locals = ((name_p, (Var 0 sort.Val)) ∷ []); items = ((Data (Number (pos 64)) (Var 0 sort.Val) (Of2 binary.Cons (Of unary.Vi (Number (pos 4))) Nil)) ∷ []) }); post = (record { opened = []; facts = ([]); locals = []; items = ((Data (Number (pos 64)) (Var 0 sort.Val) (Of2 binary.Cons (Of unary.Vi (Number (pos 4))) Nil)) ∷ []) }) }) ∷ []) }) (record { is_void = true; name = name_f; params = (name_p ∷ []); vars = ((name_v, sort.Val) ∷ []); pre = (record { opened = []; facts = ([]); locals = ((name_p, (Var 0 sort.Val)) ∷ []); items = ((Data (Number (pos 64)) (Var 0 sort.Val) (Of2 binary.Cons (Of unary.Vi (Number (pos 4))) Nil)) ∷ []) }); post = (record { opened = []; facts = ([]); locals = []; items = ((Data (Number (pos 64)) (Var 0 sort.Val) (Of2 binary.Cons (Of unary.Vi (Number (pos 4))) Nil)) ∷ []) }) }) (record { temps = (name_p ∷ []); body = (c.Then c.Skip c.End) }) (s.Then 1 s.Skip s.NoBlock (s.Then 2 (s.Fall ((Named name_v) ∷ []) ([])) s.NoBlock s.End)) ≡ (RefusedAt 2 10 1)
unfolding computing
conditions_251 = refl

conditions_252 : body_verdict (record { predicates = ([]); specs = ((record { is_void = true; name = name_f; params = (name_p ∷ []); vars = ((name_v, sort.Val) ∷ []); pre = (record { opened = []; facts = ([]); locals = ((name_p, (Var 0 sort.Val)) ∷ []); items = ((Data (Number (pos 64)) (Var 0 sort.Val) (Of2 binary.Cons (Of unary.Vi (Number (pos 4))) Nil)) ∷ []) }); post = (record { opened = []; facts = ((Rel relation.Eq (Var 1 sort.Val) Undef) ∷ []); locals = []; items = ((Data (Number (pos 64)) (Var 0 sort.Val) (Of2 binary.Cons (Of unary.Vi (Number (pos 4))) Nil)) ∷ []) }) }) ∷ []) }) (record { is_void = true; name = name_f; params = (name_p ∷ []); vars = ((name_v, sort.Val) ∷ []); pre = (record { opened = []; facts = ([]); locals = ((name_p, (Var 0 sort.Val)) ∷ []); items = ((Data (Number (pos 64)) (Var 0 sort.Val) (Of2 binary.Cons (Of unary.Vi (Number (pos 4))) Nil)) ∷ []) }); post = (record { opened = []; facts = ((Rel relation.Eq (Var 1 sort.Val) Undef) ∷ []); locals = []; items = ((Data (Number (pos 64)) (Var 0 sort.Val) (Of2 binary.Cons (Of unary.Vi (Number (pos 4))) Nil)) ∷ []) }) }) (record { temps = (name_p ∷ []); body = (c.Then c.Skip c.End) }) (s.Then 1 s.Skip s.NoBlock (s.Then 2 (s.Fall ((Named name_v) ∷ []) ([])) s.NoBlock s.End)) ≡ (RefusedAt 2 10 1)
unfolding computing
conditions_252 = refl

conditions_253 : body_verdict (record { predicates = ([]); specs = ((record { is_void = true; name = name_f; params = (name_p ∷ []); vars = ((name_v, sort.Val) ∷ []); pre = (record { opened = []; facts = ([]); locals = ((name_p, (Var 0 sort.Val)) ∷ []); items = ((Data (Number (pos 64)) (Var 0 sort.Val) (Of2 binary.Cons (Of unary.Vi (Number (pos 4))) Nil)) ∷ []) }); post = (record { opened = []; facts = ((Rel relation.Le (Number (pos 1)) (Number (pos 0))) ∷ []); locals = []; items = ((Data (Number (pos 64)) (Var 0 sort.Val) (Of2 binary.Cons (Of unary.Vi (Number (pos 4))) Nil)) ∷ []) }) }) ∷ []) }) (record { is_void = true; name = name_f; params = (name_p ∷ []); vars = ((name_v, sort.Val) ∷ []); pre = (record { opened = []; facts = ([]); locals = ((name_p, (Var 0 sort.Val)) ∷ []); items = ((Data (Number (pos 64)) (Var 0 sort.Val) (Of2 binary.Cons (Of unary.Vi (Number (pos 4))) Nil)) ∷ []) }); post = (record { opened = []; facts = ((Rel relation.Le (Number (pos 1)) (Number (pos 0))) ∷ []); locals = []; items = ((Data (Number (pos 64)) (Var 0 sort.Val) (Of2 binary.Cons (Of unary.Vi (Number (pos 4))) Nil)) ∷ []) }) }) (record { temps = (name_p ∷ []); body = (c.Then c.Skip c.End) }) (s.Then 1 s.Skip s.NoBlock (s.Then 2 (s.Fall ((Named name_v) ∷ []) ([])) s.NoBlock s.End)) ≡ (RefusedAt 2 10 1)
unfolding computing
conditions_253 = refl

conditions_254 : body_verdict (record { predicates = ([]); specs = ((record { is_void = true; name = name_f; params = (name_p ∷ []); vars = ((name_v, sort.Val) ∷ []); pre = (record { opened = []; facts = ([]); locals = ((name_p, (Var 0 sort.Val)) ∷ []); items = ((Data (Number (pos 64)) (Var 0 sort.Val) (Of2 binary.Cons (Of unary.Vi (Number (pos 4))) Nil)) ∷ []) }); post = (record { opened = []; facts = ([]); locals = []; items = ((Data (Number (pos 64)) (Var 0 sort.Val) (Of2 binary.Cons (Of unary.Vi (Number (pos 4))) Nil)) ∷ []) }) }) ∷ []) }) (record { is_void = true; name = name_f; params = (name_p ∷ []); vars = ((name_v, sort.Val) ∷ []); pre = (record { opened = []; facts = ([]); locals = ((name_p, (Var 0 sort.Val)) ∷ []); items = ((Data (Number (pos 64)) (Var 0 sort.Val) (Of2 binary.Cons (Of unary.Vi (Number (pos 4))) Nil)) ∷ []) }); post = (record { opened = []; facts = ([]); locals = []; items = ((Data (Number (pos 64)) (Var 0 sort.Val) (Of2 binary.Cons (Of unary.Vi (Number (pos 4))) Nil)) ∷ []) }) }) (record { temps = (name_p ∷ []); body = (c.Then c.Skip (c.Then (c.Return None) c.End)) }) (s.Then 1 s.Skip s.NoBlock (s.Then 2 (s.Fall ((Named name_v) ∷ []) ([])) s.NoBlock s.End)) ≡ (RefusedAt 2 10 1)
unfolding computing
conditions_254 = refl

conditions_255 : body_verdict (record { predicates = ([]); specs = ((record { is_void = true; name = name_f; params = (name_p ∷ []); vars = ((name_v, sort.Val) ∷ []); pre = (record { opened = []; facts = ([]); locals = ((name_p, (Var 0 sort.Val)) ∷ []); items = ((Data (Number (pos 64)) (Var 0 sort.Val) (Of2 binary.Cons (Of unary.Vi (Number (pos 4))) Nil)) ∷ []) }); post = (record { opened = []; facts = ((Rel relation.Eq (Var 1 sort.Val) Undef) ∷ []); locals = []; items = ((Data (Number (pos 64)) (Var 0 sort.Val) (Of2 binary.Cons (Of unary.Vi (Number (pos 4))) Nil)) ∷ []) }) }) ∷ []) }) (record { is_void = true; name = name_f; params = (name_p ∷ []); vars = ((name_v, sort.Val) ∷ []); pre = (record { opened = []; facts = ([]); locals = ((name_p, (Var 0 sort.Val)) ∷ []); items = ((Data (Number (pos 64)) (Var 0 sort.Val) (Of2 binary.Cons (Of unary.Vi (Number (pos 4))) Nil)) ∷ []) }); post = (record { opened = []; facts = ((Rel relation.Eq (Var 1 sort.Val) Undef) ∷ []); locals = []; items = ((Data (Number (pos 64)) (Var 0 sort.Val) (Of2 binary.Cons (Of unary.Vi (Number (pos 4))) Nil)) ∷ []) }) }) (record { temps = (name_p ∷ []); body = (c.Then c.Skip (c.Then (c.Return None) c.End)) }) (s.Then 1 s.Skip s.NoBlock (s.Then 2 (s.Fall ((Named name_v) ∷ []) ([])) s.NoBlock s.End)) ≡ (RefusedAt 2 10 1)
unfolding computing
conditions_255 = refl

conditions_256 : body_verdict (record { predicates = ([]); specs = ((record { is_void = true; name = name_f; params = (name_p ∷ []); vars = ((name_v, sort.Val) ∷ []); pre = (record { opened = []; facts = ([]); locals = ((name_p, (Var 0 sort.Val)) ∷ []); items = ((Data (Number (pos 64)) (Var 0 sort.Val) (Of2 binary.Cons (Of unary.Vi (Number (pos 4))) Nil)) ∷ []) }); post = (record { opened = []; facts = ((Rel relation.Le (Number (pos 1)) (Number (pos 0))) ∷ []); locals = []; items = ((Data (Number (pos 64)) (Var 0 sort.Val) (Of2 binary.Cons (Of unary.Vi (Number (pos 4))) Nil)) ∷ []) }) }) ∷ []) }) (record { is_void = true; name = name_f; params = (name_p ∷ []); vars = ((name_v, sort.Val) ∷ []); pre = (record { opened = []; facts = ([]); locals = ((name_p, (Var 0 sort.Val)) ∷ []); items = ((Data (Number (pos 64)) (Var 0 sort.Val) (Of2 binary.Cons (Of unary.Vi (Number (pos 4))) Nil)) ∷ []) }); post = (record { opened = []; facts = ((Rel relation.Le (Number (pos 1)) (Number (pos 0))) ∷ []); locals = []; items = ((Data (Number (pos 64)) (Var 0 sort.Val) (Of2 binary.Cons (Of unary.Vi (Number (pos 4))) Nil)) ∷ []) }) }) (record { temps = (name_p ∷ []); body = (c.Then c.Skip (c.Then (c.Return None) c.End)) }) (s.Then 1 s.Skip s.NoBlock (s.Then 2 (s.Fall ((Named name_v) ∷ []) ([])) s.NoBlock s.End)) ≡ (RefusedAt 2 10 1)
unfolding computing
conditions_256 = refl

conditions_257 : body_verdict (record { predicates = ([]); specs = ((record { is_void = true; name = name_f; params = (name_p ∷ []); vars = ((name_v, sort.Val) ∷ []); pre = (record { opened = []; facts = ([]); locals = ((name_p, (Var 0 sort.Val)) ∷ []); items = ((Data (Number (pos 64)) (Var 0 sort.Val) (Of2 binary.Cons (Of unary.Vi (Number (pos 4))) Nil)) ∷ []) }); post = (record { opened = []; facts = ([]); locals = []; items = ((Data (Number (pos 64)) (Var 0 sort.Val) (Of2 binary.Cons (Of unary.Vi (Number (pos 4))) Nil)) ∷ []) }) }) ∷ []) }) (record { is_void = true; name = name_f; params = (name_p ∷ []); vars = ((name_v, sort.Val) ∷ []); pre = (record { opened = []; facts = ([]); locals = ((name_p, (Var 0 sort.Val)) ∷ []); items = ((Data (Number (pos 64)) (Var 0 sort.Val) (Of2 binary.Cons (Of unary.Vi (Number (pos 4))) Nil)) ∷ []) }); post = (record { opened = []; facts = ([]); locals = []; items = ((Data (Number (pos 64)) (Var 0 sort.Val) (Of2 binary.Cons (Of unary.Vi (Number (pos 4))) Nil)) ∷ []) }) }) (record { temps = (name_p ∷ []); body = (c.Then c.Skip c.End) }) (s.Then 1 s.Skip s.NoBlock (s.Then 2 (s.Fall ([]) ((record { lines = ((line.Comb (((pos 1), 0) ∷ [])) ∷ []) }) ∷ [])) s.NoBlock s.End)) ≡ (RefusedAt 2 10 3)
unfolding computing
conditions_257 = refl

conditions_258 : body_verdict (record { predicates = ([]); specs = ((record { is_void = true; name = name_f; params = (name_p ∷ []); vars = ((name_v, sort.Val) ∷ []); pre = (record { opened = []; facts = ([]); locals = ((name_p, (Var 0 sort.Val)) ∷ []); items = ((Data (Number (pos 64)) (Var 0 sort.Val) (Of2 binary.Cons (Of unary.Vi (Number (pos 4))) Nil)) ∷ []) }); post = (record { opened = []; facts = ((Rel relation.Eq (Var 1 sort.Val) Undef) ∷ []); locals = []; items = ((Data (Number (pos 64)) (Var 0 sort.Val) (Of2 binary.Cons (Of unary.Vi (Number (pos 4))) Nil)) ∷ []) }) }) ∷ []) }) (record { is_void = true; name = name_f; params = (name_p ∷ []); vars = ((name_v, sort.Val) ∷ []); pre = (record { opened = []; facts = ([]); locals = ((name_p, (Var 0 sort.Val)) ∷ []); items = ((Data (Number (pos 64)) (Var 0 sort.Val) (Of2 binary.Cons (Of unary.Vi (Number (pos 4))) Nil)) ∷ []) }); post = (record { opened = []; facts = ((Rel relation.Eq (Var 1 sort.Val) Undef) ∷ []); locals = []; items = ((Data (Number (pos 64)) (Var 0 sort.Val) (Of2 binary.Cons (Of unary.Vi (Number (pos 4))) Nil)) ∷ []) }) }) (record { temps = (name_p ∷ []); body = (c.Then c.Skip c.End) }) (s.Then 1 s.Skip s.NoBlock (s.Then 2 (s.Fall ([]) ((record { lines = ((line.Comb (((pos 1), 0) ∷ [])) ∷ []) }) ∷ [])) s.NoBlock s.End)) ≡ (RefusedAt 2 10 3)
unfolding computing
conditions_258 = refl

conditions_259 : body_verdict (record { predicates = ([]); specs = ((record { is_void = true; name = name_f; params = (name_p ∷ []); vars = ((name_v, sort.Val) ∷ []); pre = (record { opened = []; facts = ([]); locals = ((name_p, (Var 0 sort.Val)) ∷ []); items = ((Data (Number (pos 64)) (Var 0 sort.Val) (Of2 binary.Cons (Of unary.Vi (Number (pos 4))) Nil)) ∷ []) }); post = (record { opened = []; facts = ((Rel relation.Le (Number (pos 1)) (Number (pos 0))) ∷ []); locals = []; items = ((Data (Number (pos 64)) (Var 0 sort.Val) (Of2 binary.Cons (Of unary.Vi (Number (pos 4))) Nil)) ∷ []) }) }) ∷ []) }) (record { is_void = true; name = name_f; params = (name_p ∷ []); vars = ((name_v, sort.Val) ∷ []); pre = (record { opened = []; facts = ([]); locals = ((name_p, (Var 0 sort.Val)) ∷ []); items = ((Data (Number (pos 64)) (Var 0 sort.Val) (Of2 binary.Cons (Of unary.Vi (Number (pos 4))) Nil)) ∷ []) }); post = (record { opened = []; facts = ((Rel relation.Le (Number (pos 1)) (Number (pos 0))) ∷ []); locals = []; items = ((Data (Number (pos 64)) (Var 0 sort.Val) (Of2 binary.Cons (Of unary.Vi (Number (pos 4))) Nil)) ∷ []) }) }) (record { temps = (name_p ∷ []); body = (c.Then c.Skip c.End) }) (s.Then 1 s.Skip s.NoBlock (s.Then 2 (s.Fall ([]) ((record { lines = ((line.Comb (((pos 1), 0) ∷ [])) ∷ []) }) ∷ [])) s.NoBlock s.End)) ≡ (RefusedAt 2 10 3)
unfolding computing
conditions_259 = refl

conditions_260 : body_verdict (record { predicates = ([]); specs = ((record { is_void = true; name = name_f; params = (name_p ∷ []); vars = ((name_v, sort.Val) ∷ []); pre = (record { opened = []; facts = ([]); locals = ((name_p, (Var 0 sort.Val)) ∷ []); items = ((Data (Number (pos 64)) (Var 0 sort.Val) (Of2 binary.Cons (Of unary.Vi (Number (pos 4))) Nil)) ∷ []) }); post = (record { opened = []; facts = ([]); locals = []; items = ((Data (Number (pos 64)) (Var 0 sort.Val) (Of2 binary.Cons (Of unary.Vi (Number (pos 4))) Nil)) ∷ []) }) }) ∷ []) }) (record { is_void = true; name = name_f; params = (name_p ∷ []); vars = ((name_v, sort.Val) ∷ []); pre = (record { opened = []; facts = ([]); locals = ((name_p, (Var 0 sort.Val)) ∷ []); items = ((Data (Number (pos 64)) (Var 0 sort.Val) (Of2 binary.Cons (Of unary.Vi (Number (pos 4))) Nil)) ∷ []) }); post = (record { opened = []; facts = ([]); locals = []; items = ((Data (Number (pos 64)) (Var 0 sort.Val) (Of2 binary.Cons (Of unary.Vi (Number (pos 4))) Nil)) ∷ []) }) }) (record { temps = (name_p ∷ []); body = (c.Then c.Skip (c.Then (c.Return None) c.End)) }) (s.Then 1 s.Skip s.NoBlock (s.Then 2 (s.Fall ([]) ((record { lines = ((line.Comb (((pos 1), 0) ∷ [])) ∷ []) }) ∷ [])) s.NoBlock s.End)) ≡ (RefusedAt 2 10 1)
unfolding computing
conditions_260 = refl

conditions_261 : body_verdict (record { predicates = ([]); specs = ((record { is_void = true; name = name_f; params = (name_p ∷ []); vars = ((name_v, sort.Val) ∷ []); pre = (record { opened = []; facts = ([]); locals = ((name_p, (Var 0 sort.Val)) ∷ []); items = ((Data (Number (pos 64)) (Var 0 sort.Val) (Of2 binary.Cons (Of unary.Vi (Number (pos 4))) Nil)) ∷ []) }); post = (record { opened = []; facts = ((Rel relation.Eq (Var 1 sort.Val) Undef) ∷ []); locals = []; items = ((Data (Number (pos 64)) (Var 0 sort.Val) (Of2 binary.Cons (Of unary.Vi (Number (pos 4))) Nil)) ∷ []) }) }) ∷ []) }) (record { is_void = true; name = name_f; params = (name_p ∷ []); vars = ((name_v, sort.Val) ∷ []); pre = (record { opened = []; facts = ([]); locals = ((name_p, (Var 0 sort.Val)) ∷ []); items = ((Data (Number (pos 64)) (Var 0 sort.Val) (Of2 binary.Cons (Of unary.Vi (Number (pos 4))) Nil)) ∷ []) }); post = (record { opened = []; facts = ((Rel relation.Eq (Var 1 sort.Val) Undef) ∷ []); locals = []; items = ((Data (Number (pos 64)) (Var 0 sort.Val) (Of2 binary.Cons (Of unary.Vi (Number (pos 4))) Nil)) ∷ []) }) }) (record { temps = (name_p ∷ []); body = (c.Then c.Skip (c.Then (c.Return None) c.End)) }) (s.Then 1 s.Skip s.NoBlock (s.Then 2 (s.Fall ([]) ((record { lines = ((line.Comb (((pos 1), 0) ∷ [])) ∷ []) }) ∷ [])) s.NoBlock s.End)) ≡ (RefusedAt 2 10 1)
unfolding computing
conditions_261 = refl

conditions_262 : body_verdict (record { predicates = ([]); specs = ((record { is_void = true; name = name_f; params = (name_p ∷ []); vars = ((name_v, sort.Val) ∷ []); pre = (record { opened = []; facts = ([]); locals = ((name_p, (Var 0 sort.Val)) ∷ []); items = ((Data (Number (pos 64)) (Var 0 sort.Val) (Of2 binary.Cons (Of unary.Vi (Number (pos 4))) Nil)) ∷ []) }); post = (record { opened = []; facts = ((Rel relation.Le (Number (pos 1)) (Number (pos 0))) ∷ []); locals = []; items = ((Data (Number (pos 64)) (Var 0 sort.Val) (Of2 binary.Cons (Of unary.Vi (Number (pos 4))) Nil)) ∷ []) }) }) ∷ []) }) (record { is_void = true; name = name_f; params = (name_p ∷ []); vars = ((name_v, sort.Val) ∷ []); pre = (record { opened = []; facts = ([]); locals = ((name_p, (Var 0 sort.Val)) ∷ []); items = ((Data (Number (pos 64)) (Var 0 sort.Val) (Of2 binary.Cons (Of unary.Vi (Number (pos 4))) Nil)) ∷ []) }); post = (record { opened = []; facts = ((Rel relation.Le (Number (pos 1)) (Number (pos 0))) ∷ []); locals = []; items = ((Data (Number (pos 64)) (Var 0 sort.Val) (Of2 binary.Cons (Of unary.Vi (Number (pos 4))) Nil)) ∷ []) }) }) (record { temps = (name_p ∷ []); body = (c.Then c.Skip (c.Then (c.Return None) c.End)) }) (s.Then 1 s.Skip s.NoBlock (s.Then 2 (s.Fall ([]) ((record { lines = ((line.Comb (((pos 1), 0) ∷ [])) ∷ []) }) ∷ [])) s.NoBlock s.End)) ≡ (RefusedAt 2 10 1)
unfolding computing
conditions_262 = refl

conditions_263 : body_verdict (record { predicates = ([]); specs = ((record { is_void = true; name = name_f; params = (name_p ∷ []); vars = ((name_v, sort.Val) ∷ []); pre = (record { opened = []; facts = ([]); locals = ((name_p, (Var 0 sort.Val)) ∷ []); items = ((Data (Number (pos 64)) (Var 0 sort.Val) (Of2 binary.Cons (Of unary.Vi (Number (pos 4))) Nil)) ∷ []) }); post = (record { opened = []; facts = ([]); locals = []; items = ((Data (Number (pos 64)) (Var 0 sort.Val) (Of2 binary.Cons (Of unary.Vi (Number (pos 4))) Nil)) ∷ []) }) }) ∷ []) }) (record { is_void = true; name = name_f; params = (name_p ∷ []); vars = ((name_v, sort.Val) ∷ []); pre = (record { opened = []; facts = ([]); locals = ((name_p, (Var 0 sort.Val)) ∷ []); items = ((Data (Number (pos 64)) (Var 0 sort.Val) (Of2 binary.Cons (Of unary.Vi (Number (pos 4))) Nil)) ∷ []) }); post = (record { opened = []; facts = ([]); locals = []; items = ((Data (Number (pos 64)) (Var 0 sort.Val) (Of2 binary.Cons (Of unary.Vi (Number (pos 4))) Nil)) ∷ []) }) }) (record { temps = (name_p ∷ []); body = (c.Then c.Skip c.End) }) (s.Then 1 s.Skip s.NoBlock (s.Then 2 (s.Meet ([]) ([])) s.NoBlock s.End)) ≡ (RefusedAt 2 37 1)
unfolding computing
conditions_263 = refl

conditions_264 : body_verdict (record { predicates = ([]); specs = ((record { is_void = true; name = name_f; params = (name_p ∷ []); vars = ((name_v, sort.Val) ∷ []); pre = (record { opened = []; facts = ([]); locals = ((name_p, (Var 0 sort.Val)) ∷ []); items = ((Data (Number (pos 64)) (Var 0 sort.Val) (Of2 binary.Cons (Of unary.Vi (Number (pos 4))) Nil)) ∷ []) }); post = (record { opened = []; facts = ((Rel relation.Eq (Var 1 sort.Val) Undef) ∷ []); locals = []; items = ((Data (Number (pos 64)) (Var 0 sort.Val) (Of2 binary.Cons (Of unary.Vi (Number (pos 4))) Nil)) ∷ []) }) }) ∷ []) }) (record { is_void = true; name = name_f; params = (name_p ∷ []); vars = ((name_v, sort.Val) ∷ []); pre = (record { opened = []; facts = ([]); locals = ((name_p, (Var 0 sort.Val)) ∷ []); items = ((Data (Number (pos 64)) (Var 0 sort.Val) (Of2 binary.Cons (Of unary.Vi (Number (pos 4))) Nil)) ∷ []) }); post = (record { opened = []; facts = ((Rel relation.Eq (Var 1 sort.Val) Undef) ∷ []); locals = []; items = ((Data (Number (pos 64)) (Var 0 sort.Val) (Of2 binary.Cons (Of unary.Vi (Number (pos 4))) Nil)) ∷ []) }) }) (record { temps = (name_p ∷ []); body = (c.Then c.Skip c.End) }) (s.Then 1 s.Skip s.NoBlock (s.Then 2 (s.Meet ([]) ([])) s.NoBlock s.End)) ≡ (RefusedAt 2 37 1)
unfolding computing
conditions_264 = refl

conditions_265 : body_verdict (record { predicates = ([]); specs = ((record { is_void = true; name = name_f; params = (name_p ∷ []); vars = ((name_v, sort.Val) ∷ []); pre = (record { opened = []; facts = ([]); locals = ((name_p, (Var 0 sort.Val)) ∷ []); items = ((Data (Number (pos 64)) (Var 0 sort.Val) (Of2 binary.Cons (Of unary.Vi (Number (pos 4))) Nil)) ∷ []) }); post = (record { opened = []; facts = ((Rel relation.Le (Number (pos 1)) (Number (pos 0))) ∷ []); locals = []; items = ((Data (Number (pos 64)) (Var 0 sort.Val) (Of2 binary.Cons (Of unary.Vi (Number (pos 4))) Nil)) ∷ []) }) }) ∷ []) }) (record { is_void = true; name = name_f; params = (name_p ∷ []); vars = ((name_v, sort.Val) ∷ []); pre = (record { opened = []; facts = ([]); locals = ((name_p, (Var 0 sort.Val)) ∷ []); items = ((Data (Number (pos 64)) (Var 0 sort.Val) (Of2 binary.Cons (Of unary.Vi (Number (pos 4))) Nil)) ∷ []) }); post = (record { opened = []; facts = ((Rel relation.Le (Number (pos 1)) (Number (pos 0))) ∷ []); locals = []; items = ((Data (Number (pos 64)) (Var 0 sort.Val) (Of2 binary.Cons (Of unary.Vi (Number (pos 4))) Nil)) ∷ []) }) }) (record { temps = (name_p ∷ []); body = (c.Then c.Skip c.End) }) (s.Then 1 s.Skip s.NoBlock (s.Then 2 (s.Meet ([]) ([])) s.NoBlock s.End)) ≡ (RefusedAt 2 37 1)
unfolding computing
conditions_265 = refl

conditions_266 : body_verdict (record { predicates = ([]); specs = ((record { is_void = true; name = name_f; params = (name_p ∷ []); vars = ((name_v, sort.Val) ∷ []); pre = (record { opened = []; facts = ([]); locals = ((name_p, (Var 0 sort.Val)) ∷ []); items = ((Data (Number (pos 64)) (Var 0 sort.Val) (Of2 binary.Cons (Of unary.Vi (Number (pos 4))) Nil)) ∷ []) }); post = (record { opened = []; facts = ([]); locals = []; items = ((Data (Number (pos 64)) (Var 0 sort.Val) (Of2 binary.Cons (Of unary.Vi (Number (pos 4))) Nil)) ∷ []) }) }) ∷ []) }) (record { is_void = true; name = name_f; params = (name_p ∷ []); vars = ((name_v, sort.Val) ∷ []); pre = (record { opened = []; facts = ([]); locals = ((name_p, (Var 0 sort.Val)) ∷ []); items = ((Data (Number (pos 64)) (Var 0 sort.Val) (Of2 binary.Cons (Of unary.Vi (Number (pos 4))) Nil)) ∷ []) }); post = (record { opened = []; facts = ([]); locals = []; items = ((Data (Number (pos 64)) (Var 0 sort.Val) (Of2 binary.Cons (Of unary.Vi (Number (pos 4))) Nil)) ∷ []) }) }) (record { temps = (name_p ∷ []); body = (c.Then c.Skip (c.Then (c.Return None) c.End)) }) (s.Then 1 s.Skip s.NoBlock (s.Then 2 (s.Meet ([]) ([])) s.NoBlock s.End)) ≡ (RefusedAt 2 37 1)
unfolding computing
conditions_266 = refl

conditions_267 : body_verdict (record { predicates = ([]); specs = ((record { is_void = true; name = name_f; params = (name_p ∷ []); vars = ((name_v, sort.Val) ∷ []); pre = (record { opened = []; facts = ([]); locals = ((name_p, (Var 0 sort.Val)) ∷ []); items = ((Data (Number (pos 64)) (Var 0 sort.Val) (Of2 binary.Cons (Of unary.Vi (Number (pos 4))) Nil)) ∷ []) }); post = (record { opened = []; facts = ((Rel relation.Eq (Var 1 sort.Val) Undef) ∷ []); locals = []; items = ((Data (Number (pos 64)) (Var 0 sort.Val) (Of2 binary.Cons (Of unary.Vi (Number (pos 4))) Nil)) ∷ []) }) }) ∷ []) }) (record { is_void = true; name = name_f; params = (name_p ∷ []); vars = ((name_v, sort.Val) ∷ []); pre = (record { opened = []; facts = ([]); locals = ((name_p, (Var 0 sort.Val)) ∷ []); items = ((Data (Number (pos 64)) (Var 0 sort.Val) (Of2 binary.Cons (Of unary.Vi (Number (pos 4))) Nil)) ∷ []) }); post = (record { opened = []; facts = ((Rel relation.Eq (Var 1 sort.Val) Undef) ∷ []); locals = []; items = ((Data (Number (pos 64)) (Var 0 sort.Val) (Of2 binary.Cons (Of unary.Vi (Number (pos 4))) Nil)) ∷ []) }) }) (record { temps = (name_p ∷ []); body = (c.Then c.Skip (c.Then (c.Return None) c.End)) }) (s.Then 1 s.Skip s.NoBlock (s.Then 2 (s.Meet ([]) ([])) s.NoBlock s.End)) ≡ (RefusedAt 2 37 1)
unfolding computing
conditions_267 = refl

conditions_268 : body_verdict (record { predicates = ([]); specs = ((record { is_void = true; name = name_f; params = (name_p ∷ []); vars = ((name_v, sort.Val) ∷ []); pre = (record { opened = []; facts = ([]); locals = ((name_p, (Var 0 sort.Val)) ∷ []); items = ((Data (Number (pos 64)) (Var 0 sort.Val) (Of2 binary.Cons (Of unary.Vi (Number (pos 4))) Nil)) ∷ []) }); post = (record { opened = []; facts = ((Rel relation.Le (Number (pos 1)) (Number (pos 0))) ∷ []); locals = []; items = ((Data (Number (pos 64)) (Var 0 sort.Val) (Of2 binary.Cons (Of unary.Vi (Number (pos 4))) Nil)) ∷ []) }) }) ∷ []) }) (record { is_void = true; name = name_f; params = (name_p ∷ []); vars = ((name_v, sort.Val) ∷ []); pre = (record { opened = []; facts = ([]); locals = ((name_p, (Var 0 sort.Val)) ∷ []); items = ((Data (Number (pos 64)) (Var 0 sort.Val) (Of2 binary.Cons (Of unary.Vi (Number (pos 4))) Nil)) ∷ []) }); post = (record { opened = []; facts = ((Rel relation.Le (Number (pos 1)) (Number (pos 0))) ∷ []); locals = []; items = ((Data (Number (pos 64)) (Var 0 sort.Val) (Of2 binary.Cons (Of unary.Vi (Number (pos 4))) Nil)) ∷ []) }) }) (record { temps = (name_p ∷ []); body = (c.Then c.Skip (c.Then (c.Return None) c.End)) }) (s.Then 1 s.Skip s.NoBlock (s.Then 2 (s.Meet ([]) ([])) s.NoBlock s.End)) ≡ (RefusedAt 2 37 1)
unfolding computing
conditions_268 = refl

conditions_269 : body_verdict (record { predicates = ([]); specs = ((record { is_void = true; name = name_f; params = (name_p ∷ []); vars = ((name_v, sort.Val) ∷ []); pre = (record { opened = []; facts = ([]); locals = ((name_p, (Var 0 sort.Val)) ∷ []); items = ((Data (Number (pos 63)) (Var 0 sort.Val) (Of2 binary.Cons (Of unary.Vi (Number (pos 4))) Nil)) ∷ (Token (Var 0 sort.Val) (Number (pos 1))) ∷ []) }); post = (record { opened = []; facts = ([]); locals = []; items = ([]) }) }) ∷ []) }) (record { is_void = true; name = name_f; params = (name_p ∷ []); vars = ((name_v, sort.Val) ∷ []); pre = (record { opened = []; facts = ([]); locals = ((name_p, (Var 0 sort.Val)) ∷ []); items = ((Data (Number (pos 63)) (Var 0 sort.Val) (Of2 binary.Cons (Of unary.Vi (Number (pos 4))) Nil)) ∷ (Token (Var 0 sort.Val) (Number (pos 1))) ∷ []) }); post = (record { opened = []; facts = ([]); locals = []; items = ([]) }) }) (record { temps = (name_p ∷ []); body = (c.Then (c.Free (c.Temp 0)) (c.Then (c.Return None) c.End)) }) (s.Then 1 (s.Free 0 1 ([])) s.NoBlock (s.Then 2 (s.Return ([]) ([]) ([])) s.NoBlock s.End)) ≡ (RefusedAt 1 15 3)
unfolding computing
conditions_269 = refl

conditions_270 : body_verdict (record { predicates = ([]); specs = ((record { is_void = true; name = name_f; params = (name_p ∷ []); vars = ((name_v, sort.Val) ∷ []); pre = (record { opened = []; facts = ([]); locals = ((name_p, (Var 0 sort.Val)) ∷ []); items = ((Data (Number (pos 63)) (Var 0 sort.Val) (Of2 binary.Cons (Of unary.Vi (Number (pos 4))) Nil)) ∷ (Token (Var 0 sort.Val) (Number (pos 1))) ∷ []) }); post = (record { opened = []; facts = ([]); locals = []; items = ([]) }) }) ∷ []) }) (record { is_void = true; name = name_f; params = (name_p ∷ []); vars = ((name_v, sort.Val) ∷ []); pre = (record { opened = []; facts = ([]); locals = ((name_p, (Var 0 sort.Val)) ∷ []); items = ((Data (Number (pos 63)) (Var 0 sort.Val) (Of2 binary.Cons (Of unary.Vi (Number (pos 4))) Nil)) ∷ (Token (Var 0 sort.Val) (Number (pos 1))) ∷ []) }); post = (record { opened = []; facts = ([]); locals = []; items = ([]) }) }) (record { temps = (name_p ∷ []); body = (c.Then (c.Free (c.Temp 0)) (c.Then (c.Return None) c.End)) }) (s.Then 1 (s.Free 1 0 ([])) s.NoBlock (s.Then 2 (s.Return ([]) ([]) ([])) s.NoBlock s.End)) ≡ (RefusedAt 1 15 1)
unfolding computing
conditions_270 = refl

conditions_271 : body_verdict (record { predicates = ([]); specs = ((record { is_void = true; name = name_f; params = (name_p ∷ []); vars = ((name_v, sort.Val) ∷ []); pre = (record { opened = []; facts = ([]); locals = ((name_p, (Var 0 sort.Val)) ∷ []); items = ((Data (Number (pos 63)) (Var 0 sort.Val) (Of2 binary.Cons (Of unary.Vi (Number (pos 4))) Nil)) ∷ (Token (Var 0 sort.Val) (Number (pos 1))) ∷ []) }); post = (record { opened = []; facts = ([]); locals = []; items = ([]) }) }) ∷ []) }) (record { is_void = true; name = name_f; params = (name_p ∷ []); vars = ((name_v, sort.Val) ∷ []); pre = (record { opened = []; facts = ([]); locals = ((name_p, (Var 0 sort.Val)) ∷ []); items = ((Data (Number (pos 63)) (Var 0 sort.Val) (Of2 binary.Cons (Of unary.Vi (Number (pos 4))) Nil)) ∷ (Token (Var 0 sort.Val) (Number (pos 1))) ∷ []) }); post = (record { opened = []; facts = ([]); locals = []; items = ([]) }) }) (record { temps = (name_p ∷ []); body = (c.Then (c.Free (c.Temp 0)) (c.Then (c.Return None) c.End)) }) (s.Then 1 (s.Free 0 0 ([])) s.NoBlock (s.Then 2 (s.Return ([]) ([]) ([])) s.NoBlock s.End)) ≡ (RefusedAt 1 15 1)
unfolding computing
conditions_271 = refl

conditions_272 : body_verdict (record { predicates = ([]); specs = ((record { is_void = true; name = name_f; params = (name_p ∷ []); vars = ((name_v, sort.Val) ∷ []); pre = (record { opened = []; facts = ([]); locals = ((name_p, (Var 0 sort.Val)) ∷ []); items = ((Data (Number (pos 63)) (Var 0 sort.Val) (Of2 binary.Cons (Of unary.Vi (Number (pos 4))) Nil)) ∷ (Token (Var 0 sort.Val) (Number (pos 1))) ∷ []) }); post = (record { opened = []; facts = ([]); locals = []; items = ([]) }) }) ∷ []) }) (record { is_void = true; name = name_f; params = (name_p ∷ []); vars = ((name_v, sort.Val) ∷ []); pre = (record { opened = []; facts = ([]); locals = ((name_p, (Var 0 sort.Val)) ∷ []); items = ((Data (Number (pos 63)) (Var 0 sort.Val) (Of2 binary.Cons (Of unary.Vi (Number (pos 4))) Nil)) ∷ (Token (Var 0 sort.Val) (Number (pos 1))) ∷ []) }); post = (record { opened = []; facts = ([]); locals = []; items = ([]) }) }) (record { temps = (name_p ∷ []); body = (c.Then (c.Free (c.Temp 0)) (c.Then (c.Return None) c.End)) }) (s.Then 1 (s.Free 1 1 ([])) s.NoBlock (s.Then 2 (s.Return ([]) ([]) ([])) s.NoBlock s.End)) ≡ (RefusedAt 1 15 1)
unfolding computing
conditions_272 = refl

conditions_273 : body_verdict (record { predicates = ([]); specs = ((record { is_void = true; name = name_f; params = (name_p ∷ []); vars = ((name_v, sort.Val) ∷ []); pre = (record { opened = []; facts = ([]); locals = ((name_p, (Var 0 sort.Val)) ∷ []); items = ((Data (Number (pos 63)) (Var 0 sort.Val) (Of2 binary.Cons (Of unary.Vi (Number (pos 4))) Nil)) ∷ (Token (Var 0 sort.Val) (Number (pos 1))) ∷ []) }); post = (record { opened = []; facts = ([]); locals = []; items = ([]) }) }) ∷ []) }) (record { is_void = true; name = name_f; params = (name_p ∷ []); vars = ((name_v, sort.Val) ∷ []); pre = (record { opened = []; facts = ([]); locals = ((name_p, (Var 0 sort.Val)) ∷ []); items = ((Data (Number (pos 63)) (Var 0 sort.Val) (Of2 binary.Cons (Of unary.Vi (Number (pos 4))) Nil)) ∷ (Token (Var 0 sort.Val) (Number (pos 1))) ∷ []) }); post = (record { opened = []; facts = ([]); locals = []; items = ([]) }) }) (record { temps = (name_p ∷ []); body = (c.Then (c.Free (c.Temp 0)) (c.Then (c.Return None) c.End)) }) (s.Then 1 (s.Free 0 2 ([])) s.NoBlock (s.Then 2 (s.Return ([]) ([]) ([])) s.NoBlock s.End)) ≡ (RefusedAt 1 15 1)
unfolding computing
conditions_273 = refl

conditions_274 : body_verdict (record { predicates = ([]); specs = ((record { is_void = true; name = name_f; params = (name_p ∷ []); vars = ((name_v, sort.Val) ∷ []); pre = (record { opened = []; facts = ([]); locals = ((name_p, (Var 0 sort.Val)) ∷ []); items = ((Data (Number (pos 63)) (Var 0 sort.Val) (Of2 binary.Cons (Of unary.Vi (Number (pos 4))) Nil)) ∷ (Token (Var 0 sort.Val) (Number (pos 1))) ∷ []) }); post = (record { opened = []; facts = ([]); locals = []; items = ([]) }) }) ∷ []) }) (record { is_void = true; name = name_f; params = (name_p ∷ []); vars = ((name_v, sort.Val) ∷ []); pre = (record { opened = []; facts = ([]); locals = ((name_p, (Var 0 sort.Val)) ∷ []); items = ((Data (Number (pos 63)) (Var 0 sort.Val) (Of2 binary.Cons (Of unary.Vi (Number (pos 4))) Nil)) ∷ (Token (Var 0 sort.Val) (Number (pos 1))) ∷ []) }); post = (record { opened = []; facts = ([]); locals = []; items = ([]) }) }) (record { temps = (name_p ∷ []); body = (c.Then (c.Free (c.Temp 0)) (c.Then (c.Return None) c.End)) }) (s.Then 1 (s.Forget (forgotten.Local name_p)) s.NoBlock (s.Then 2 (s.Free 0 1 ([])) s.NoBlock (s.Then 3 (s.Return ([]) ([]) ([])) s.NoBlock s.End))) ≡ (RefusedAt 2 15 2)
unfolding computing
conditions_274 = refl

conditions_275 : body_verdict (record { predicates = ([]); specs = ((record { is_void = true; name = name_f; params = (name_p ∷ []); vars = ((name_v, sort.Val) ∷ []); pre = (record { opened = []; facts = ([]); locals = ((name_p, (Var 0 sort.Val)) ∷ []); items = ((Data (Number (pos 63)) (Var 0 sort.Val) (Of2 binary.Cons (Of unary.Vi (Number (pos 4))) Nil)) ∷ (Token (Var 0 sort.Val) (Number (pos 1))) ∷ []) }); post = (record { opened = []; facts = ([]); locals = []; items = ([]) }) }) ∷ []) }) (record { is_void = true; name = name_f; params = (name_p ∷ []); vars = ((name_v, sort.Val) ∷ []); pre = (record { opened = []; facts = ([]); locals = ((name_p, (Var 0 sort.Val)) ∷ []); items = ((Data (Number (pos 63)) (Var 0 sort.Val) (Of2 binary.Cons (Of unary.Vi (Number (pos 4))) Nil)) ∷ (Token (Var 0 sort.Val) (Number (pos 1))) ∷ []) }); post = (record { opened = []; facts = ([]); locals = []; items = ([]) }) }) (record { temps = (name_p ∷ []); body = (c.Then (c.Free (c.Temp 0)) (c.Then (c.Return None) c.End)) }) (s.Then 1 (s.Free 0 1 ((record { lines = ((line.Comb (((pos 1), 0) ∷ [])) ∷ []) }) ∷ [])) s.NoBlock (s.Then 2 (s.Return ([]) ([]) ([])) s.NoBlock s.End)) ≡ (RefusedAt 1 15 3)
unfolding computing
conditions_275 = refl

conditions_276 : body_verdict (record { predicates = ([]); specs = ((record { is_void = true; name = name_f; params = (name_p ∷ []); vars = ((name_v, sort.Val) ∷ []); pre = (record { opened = []; facts = ([]); locals = ((name_p, (Var 0 sort.Val)) ∷ []); items = ((Data (Number (pos 63)) (Var 0 sort.Val) (Of2 binary.Cons (Of unary.Vi (Number (pos 4))) Nil)) ∷ (Token (Var 0 sort.Val) (Number (pos 2))) ∷ []) }); post = (record { opened = []; facts = ([]); locals = []; items = ([]) }) }) ∷ []) }) (record { is_void = true; name = name_f; params = (name_p ∷ []); vars = ((name_v, sort.Val) ∷ []); pre = (record { opened = []; facts = ([]); locals = ((name_p, (Var 0 sort.Val)) ∷ []); items = ((Data (Number (pos 63)) (Var 0 sort.Val) (Of2 binary.Cons (Of unary.Vi (Number (pos 4))) Nil)) ∷ (Token (Var 0 sort.Val) (Number (pos 2))) ∷ []) }); post = (record { opened = []; facts = ([]); locals = []; items = ([]) }) }) (record { temps = (name_p ∷ []); body = (c.Then (c.Free (c.Temp 0)) (c.Then (c.Return None) c.End)) }) (s.Then 1 (s.Free 0 1 ([])) s.NoBlock (s.Then 2 (s.Return ([]) ([]) ([])) s.NoBlock s.End)) ≡ (RefusedAt 1 15 3)
unfolding computing
conditions_276 = refl

conditions_277 : body_verdict (record { predicates = ([]); specs = ((record { is_void = true; name = name_f; params = (name_p ∷ []); vars = ((name_v, sort.Val) ∷ []); pre = (record { opened = []; facts = ([]); locals = ((name_p, (Var 0 sort.Val)) ∷ []); items = ((Data (Number (pos 63)) (Var 0 sort.Val) (Of2 binary.Cons (Of unary.Vi (Number (pos 4))) Nil)) ∷ (Token (Var 0 sort.Val) (Number (pos 2))) ∷ []) }); post = (record { opened = []; facts = ([]); locals = []; items = ([]) }) }) ∷ []) }) (record { is_void = true; name = name_f; params = (name_p ∷ []); vars = ((name_v, sort.Val) ∷ []); pre = (record { opened = []; facts = ([]); locals = ((name_p, (Var 0 sort.Val)) ∷ []); items = ((Data (Number (pos 63)) (Var 0 sort.Val) (Of2 binary.Cons (Of unary.Vi (Number (pos 4))) Nil)) ∷ (Token (Var 0 sort.Val) (Number (pos 2))) ∷ []) }); post = (record { opened = []; facts = ([]); locals = []; items = ([]) }) }) (record { temps = (name_p ∷ []); body = (c.Then (c.Free (c.Temp 0)) (c.Then (c.Return None) c.End)) }) (s.Then 1 (s.Free 1 0 ([])) s.NoBlock (s.Then 2 (s.Return ([]) ([]) ([])) s.NoBlock s.End)) ≡ (RefusedAt 1 15 1)
unfolding computing
conditions_277 = refl

conditions_278 : body_verdict (record { predicates = ([]); specs = ((record { is_void = true; name = name_f; params = (name_p ∷ []); vars = ((name_v, sort.Val) ∷ []); pre = (record { opened = []; facts = ([]); locals = ((name_p, (Var 0 sort.Val)) ∷ []); items = ((Data (Number (pos 63)) (Var 0 sort.Val) (Of2 binary.Cons (Of unary.Vi (Number (pos 4))) Nil)) ∷ (Token (Var 0 sort.Val) (Number (pos 2))) ∷ []) }); post = (record { opened = []; facts = ([]); locals = []; items = ([]) }) }) ∷ []) }) (record { is_void = true; name = name_f; params = (name_p ∷ []); vars = ((name_v, sort.Val) ∷ []); pre = (record { opened = []; facts = ([]); locals = ((name_p, (Var 0 sort.Val)) ∷ []); items = ((Data (Number (pos 63)) (Var 0 sort.Val) (Of2 binary.Cons (Of unary.Vi (Number (pos 4))) Nil)) ∷ (Token (Var 0 sort.Val) (Number (pos 2))) ∷ []) }); post = (record { opened = []; facts = ([]); locals = []; items = ([]) }) }) (record { temps = (name_p ∷ []); body = (c.Then (c.Free (c.Temp 0)) (c.Then (c.Return None) c.End)) }) (s.Then 1 (s.Free 0 0 ([])) s.NoBlock (s.Then 2 (s.Return ([]) ([]) ([])) s.NoBlock s.End)) ≡ (RefusedAt 1 15 1)
unfolding computing
conditions_278 = refl

conditions_279 : body_verdict (record { predicates = ([]); specs = ((record { is_void = true; name = name_f; params = (name_p ∷ []); vars = ((name_v, sort.Val) ∷ []); pre = (record { opened = []; facts = ([]); locals = ((name_p, (Var 0 sort.Val)) ∷ []); items = ((Data (Number (pos 63)) (Var 0 sort.Val) (Of2 binary.Cons (Of unary.Vi (Number (pos 4))) Nil)) ∷ (Token (Var 0 sort.Val) (Number (pos 2))) ∷ []) }); post = (record { opened = []; facts = ([]); locals = []; items = ([]) }) }) ∷ []) }) (record { is_void = true; name = name_f; params = (name_p ∷ []); vars = ((name_v, sort.Val) ∷ []); pre = (record { opened = []; facts = ([]); locals = ((name_p, (Var 0 sort.Val)) ∷ []); items = ((Data (Number (pos 63)) (Var 0 sort.Val) (Of2 binary.Cons (Of unary.Vi (Number (pos 4))) Nil)) ∷ (Token (Var 0 sort.Val) (Number (pos 2))) ∷ []) }); post = (record { opened = []; facts = ([]); locals = []; items = ([]) }) }) (record { temps = (name_p ∷ []); body = (c.Then (c.Free (c.Temp 0)) (c.Then (c.Return None) c.End)) }) (s.Then 1 (s.Free 1 1 ([])) s.NoBlock (s.Then 2 (s.Return ([]) ([]) ([])) s.NoBlock s.End)) ≡ (RefusedAt 1 15 1)
unfolding computing
conditions_279 = refl

conditions_280 : body_verdict (record { predicates = ([]); specs = ((record { is_void = true; name = name_f; params = (name_p ∷ []); vars = ((name_v, sort.Val) ∷ []); pre = (record { opened = []; facts = ([]); locals = ((name_p, (Var 0 sort.Val)) ∷ []); items = ((Data (Number (pos 63)) (Var 0 sort.Val) (Of2 binary.Cons (Of unary.Vi (Number (pos 4))) Nil)) ∷ (Token (Var 0 sort.Val) (Number (pos 2))) ∷ []) }); post = (record { opened = []; facts = ([]); locals = []; items = ([]) }) }) ∷ []) }) (record { is_void = true; name = name_f; params = (name_p ∷ []); vars = ((name_v, sort.Val) ∷ []); pre = (record { opened = []; facts = ([]); locals = ((name_p, (Var 0 sort.Val)) ∷ []); items = ((Data (Number (pos 63)) (Var 0 sort.Val) (Of2 binary.Cons (Of unary.Vi (Number (pos 4))) Nil)) ∷ (Token (Var 0 sort.Val) (Number (pos 2))) ∷ []) }); post = (record { opened = []; facts = ([]); locals = []; items = ([]) }) }) (record { temps = (name_p ∷ []); body = (c.Then (c.Free (c.Temp 0)) (c.Then (c.Return None) c.End)) }) (s.Then 1 (s.Free 0 2 ([])) s.NoBlock (s.Then 2 (s.Return ([]) ([]) ([])) s.NoBlock s.End)) ≡ (RefusedAt 1 15 1)
unfolding computing
conditions_280 = refl

conditions_281 : body_verdict (record { predicates = ([]); specs = ((record { is_void = true; name = name_f; params = (name_p ∷ []); vars = ((name_v, sort.Val) ∷ []); pre = (record { opened = []; facts = ([]); locals = ((name_p, (Var 0 sort.Val)) ∷ []); items = ((Data (Number (pos 63)) (Var 0 sort.Val) (Of2 binary.Cons (Of unary.Vi (Number (pos 4))) Nil)) ∷ (Token (Var 0 sort.Val) (Number (pos 2))) ∷ []) }); post = (record { opened = []; facts = ([]); locals = []; items = ([]) }) }) ∷ []) }) (record { is_void = true; name = name_f; params = (name_p ∷ []); vars = ((name_v, sort.Val) ∷ []); pre = (record { opened = []; facts = ([]); locals = ((name_p, (Var 0 sort.Val)) ∷ []); items = ((Data (Number (pos 63)) (Var 0 sort.Val) (Of2 binary.Cons (Of unary.Vi (Number (pos 4))) Nil)) ∷ (Token (Var 0 sort.Val) (Number (pos 2))) ∷ []) }); post = (record { opened = []; facts = ([]); locals = []; items = ([]) }) }) (record { temps = (name_p ∷ []); body = (c.Then (c.Free (c.Temp 0)) (c.Then (c.Return None) c.End)) }) (s.Then 1 (s.Forget (forgotten.Local name_p)) s.NoBlock (s.Then 2 (s.Free 0 1 ([])) s.NoBlock (s.Then 3 (s.Return ([]) ([]) ([])) s.NoBlock s.End))) ≡ (RefusedAt 2 15 2)
unfolding computing
conditions_281 = refl

conditions_282 : body_verdict (record { predicates = ([]); specs = ((record { is_void = true; name = name_f; params = (name_p ∷ []); vars = ((name_v, sort.Val) ∷ []); pre = (record { opened = []; facts = ([]); locals = ((name_p, (Var 0 sort.Val)) ∷ []); items = ((Data (Number (pos 63)) (Var 0 sort.Val) (Of2 binary.Cons (Of unary.Vi (Number (pos 4))) Nil)) ∷ (Token (Var 0 sort.Val) (Number (pos 2))) ∷ []) }); post = (record { opened = []; facts = ([]); locals = []; items = ([]) }) }) ∷ []) }) (record { is_void = true; name = name_f; params = (name_p ∷ []); vars = ((name_v, sort.Val) ∷ []); pre = (record { opened = []; facts = ([]); locals = ((name_p, (Var 0 sort.Val)) ∷ []); items = ((Data (Number (pos 63)) (Var 0 sort.Val) (Of2 binary.Cons (Of unary.Vi (Number (pos 4))) Nil)) ∷ (Token (Var 0 sort.Val) (Number (pos 2))) ∷ []) }); post = (record { opened = []; facts = ([]); locals = []; items = ([]) }) }) (record { temps = (name_p ∷ []); body = (c.Then (c.Free (c.Temp 0)) (c.Then (c.Return None) c.End)) }) (s.Then 1 (s.Free 0 1 ((record { lines = ((line.Comb (((pos 1), 0) ∷ [])) ∷ []) }) ∷ [])) s.NoBlock (s.Then 2 (s.Return ([]) ([]) ([])) s.NoBlock s.End)) ≡ (RefusedAt 1 15 3)
unfolding computing
conditions_282 = refl

conditions_283 : body_verdict (record { predicates = ([]); specs = ((record { is_void = true; name = name_f; params = (name_p ∷ []); vars = ((name_v, sort.Val) ∷ []); pre = (record { opened = []; facts = ([]); locals = ((name_p, (Var 0 sort.Val)) ∷ []); items = ((Data (Number (pos 64)) (Var 0 sort.Val) (Of2 binary.Cons (Of unary.Vi (Number (pos 4))) Nil)) ∷ (Token (Var 0 sort.Val) (Number (pos 1))) ∷ []) }); post = (record { opened = []; facts = ([]); locals = []; items = ([]) }) }) ∷ []) }) (record { is_void = true; name = name_f; params = (name_p ∷ []); vars = ((name_v, sort.Val) ∷ []); pre = (record { opened = []; facts = ([]); locals = ((name_p, (Var 0 sort.Val)) ∷ []); items = ((Data (Number (pos 64)) (Var 0 sort.Val) (Of2 binary.Cons (Of unary.Vi (Number (pos 4))) Nil)) ∷ (Token (Var 0 sort.Val) (Number (pos 1))) ∷ []) }); post = (record { opened = []; facts = ([]); locals = []; items = ([]) }) }) (record { temps = (name_p ∷ []); body = (c.Then (c.Free (c.Temp 0)) (c.Then (c.Return None) c.End)) }) (s.Then 1 (s.Free 0 1 ([])) s.NoBlock (s.Then 2 (s.Return ([]) ([]) ([])) s.NoBlock s.End)) ≡ Accepted
unfolding computing
conditions_283 = refl

conditions_284 : body_verdict (record { predicates = ([]); specs = ((record { is_void = true; name = name_f; params = (name_p ∷ []); vars = ((name_v, sort.Val) ∷ []); pre = (record { opened = []; facts = ([]); locals = ((name_p, (Var 0 sort.Val)) ∷ []); items = ((Data (Number (pos 64)) (Var 0 sort.Val) (Of2 binary.Cons (Of unary.Vi (Number (pos 4))) Nil)) ∷ (Token (Var 0 sort.Val) (Number (pos 1))) ∷ []) }); post = (record { opened = []; facts = ([]); locals = []; items = ([]) }) }) ∷ []) }) (record { is_void = true; name = name_f; params = (name_p ∷ []); vars = ((name_v, sort.Val) ∷ []); pre = (record { opened = []; facts = ([]); locals = ((name_p, (Var 0 sort.Val)) ∷ []); items = ((Data (Number (pos 64)) (Var 0 sort.Val) (Of2 binary.Cons (Of unary.Vi (Number (pos 4))) Nil)) ∷ (Token (Var 0 sort.Val) (Number (pos 1))) ∷ []) }); post = (record { opened = []; facts = ([]); locals = []; items = ([]) }) }) (record { temps = (name_p ∷ []); body = (c.Then (c.Free (c.Temp 0)) (c.Then (c.Return None) c.End)) }) (s.Then 1 (s.Free 1 0 ([])) s.NoBlock (s.Then 2 (s.Return ([]) ([]) ([])) s.NoBlock s.End)) ≡ (RefusedAt 1 15 1)
unfolding computing
conditions_284 = refl

conditions_285 : body_verdict (record { predicates = ([]); specs = ((record { is_void = true; name = name_f; params = (name_p ∷ []); vars = ((name_v, sort.Val) ∷ []); pre = (record { opened = []; facts = ([]); locals = ((name_p, (Var 0 sort.Val)) ∷ []); items = ((Data (Number (pos 64)) (Var 0 sort.Val) (Of2 binary.Cons (Of unary.Vi (Number (pos 4))) Nil)) ∷ (Token (Var 0 sort.Val) (Number (pos 1))) ∷ []) }); post = (record { opened = []; facts = ([]); locals = []; items = ([]) }) }) ∷ []) }) (record { is_void = true; name = name_f; params = (name_p ∷ []); vars = ((name_v, sort.Val) ∷ []); pre = (record { opened = []; facts = ([]); locals = ((name_p, (Var 0 sort.Val)) ∷ []); items = ((Data (Number (pos 64)) (Var 0 sort.Val) (Of2 binary.Cons (Of unary.Vi (Number (pos 4))) Nil)) ∷ (Token (Var 0 sort.Val) (Number (pos 1))) ∷ []) }); post = (record { opened = []; facts = ([]); locals = []; items = ([]) }) }) (record { temps = (name_p ∷ []); body = (c.Then (c.Free (c.Temp 0)) (c.Then (c.Return None) c.End)) }) (s.Then 1 (s.Free 0 0 ([])) s.NoBlock (s.Then 2 (s.Return ([]) ([]) ([])) s.NoBlock s.End)) ≡ (RefusedAt 1 15 1)
unfolding computing
conditions_285 = refl

conditions_286 : body_verdict (record { predicates = ([]); specs = ((record { is_void = true; name = name_f; params = (name_p ∷ []); vars = ((name_v, sort.Val) ∷ []); pre = (record { opened = []; facts = ([]); locals = ((name_p, (Var 0 sort.Val)) ∷ []); items = ((Data (Number (pos 64)) (Var 0 sort.Val) (Of2 binary.Cons (Of unary.Vi (Number (pos 4))) Nil)) ∷ (Token (Var 0 sort.Val) (Number (pos 1))) ∷ []) }); post = (record { opened = []; facts = ([]); locals = []; items = ([]) }) }) ∷ []) }) (record { is_void = true; name = name_f; params = (name_p ∷ []); vars = ((name_v, sort.Val) ∷ []); pre = (record { opened = []; facts = ([]); locals = ((name_p, (Var 0 sort.Val)) ∷ []); items = ((Data (Number (pos 64)) (Var 0 sort.Val) (Of2 binary.Cons (Of unary.Vi (Number (pos 4))) Nil)) ∷ (Token (Var 0 sort.Val) (Number (pos 1))) ∷ []) }); post = (record { opened = []; facts = ([]); locals = []; items = ([]) }) }) (record { temps = (name_p ∷ []); body = (c.Then (c.Free (c.Temp 0)) (c.Then (c.Return None) c.End)) }) (s.Then 1 (s.Free 1 1 ([])) s.NoBlock (s.Then 2 (s.Return ([]) ([]) ([])) s.NoBlock s.End)) ≡ (RefusedAt 1 15 1)
unfolding computing
conditions_286 = refl

conditions_287 : body_verdict (record { predicates = ([]); specs = ((record { is_void = true; name = name_f; params = (name_p ∷ []); vars = ((name_v, sort.Val) ∷ []); pre = (record { opened = []; facts = ([]); locals = ((name_p, (Var 0 sort.Val)) ∷ []); items = ((Data (Number (pos 64)) (Var 0 sort.Val) (Of2 binary.Cons (Of unary.Vi (Number (pos 4))) Nil)) ∷ (Token (Var 0 sort.Val) (Number (pos 1))) ∷ []) }); post = (record { opened = []; facts = ([]); locals = []; items = ([]) }) }) ∷ []) }) (record { is_void = true; name = name_f; params = (name_p ∷ []); vars = ((name_v, sort.Val) ∷ []); pre = (record { opened = []; facts = ([]); locals = ((name_p, (Var 0 sort.Val)) ∷ []); items = ((Data (Number (pos 64)) (Var 0 sort.Val) (Of2 binary.Cons (Of unary.Vi (Number (pos 4))) Nil)) ∷ (Token (Var 0 sort.Val) (Number (pos 1))) ∷ []) }); post = (record { opened = []; facts = ([]); locals = []; items = ([]) }) }) (record { temps = (name_p ∷ []); body = (c.Then (c.Free (c.Temp 0)) (c.Then (c.Return None) c.End)) }) (s.Then 1 (s.Free 0 2 ([])) s.NoBlock (s.Then 2 (s.Return ([]) ([]) ([])) s.NoBlock s.End)) ≡ (RefusedAt 1 15 1)
unfolding computing
conditions_287 = refl

conditions_288 : body_verdict (record { predicates = ([]); specs = ((record { is_void = true; name = name_f; params = (name_p ∷ []); vars = ((name_v, sort.Val) ∷ []); pre = (record { opened = []; facts = ([]); locals = ((name_p, (Var 0 sort.Val)) ∷ []); items = ((Data (Number (pos 64)) (Var 0 sort.Val) (Of2 binary.Cons (Of unary.Vi (Number (pos 4))) Nil)) ∷ (Token (Var 0 sort.Val) (Number (pos 1))) ∷ []) }); post = (record { opened = []; facts = ([]); locals = []; items = ([]) }) }) ∷ []) }) (record { is_void = true; name = name_f; params = (name_p ∷ []); vars = ((name_v, sort.Val) ∷ []); pre = (record { opened = []; facts = ([]); locals = ((name_p, (Var 0 sort.Val)) ∷ []); items = ((Data (Number (pos 64)) (Var 0 sort.Val) (Of2 binary.Cons (Of unary.Vi (Number (pos 4))) Nil)) ∷ (Token (Var 0 sort.Val) (Number (pos 1))) ∷ []) }); post = (record { opened = []; facts = ([]); locals = []; items = ([]) }) }) (record { temps = (name_p ∷ []); body = (c.Then (c.Free (c.Temp 0)) (c.Then (c.Return None) c.End)) }) (s.Then 1 (s.Forget (forgotten.Local name_p)) s.NoBlock (s.Then 2 (s.Free 0 1 ([])) s.NoBlock (s.Then 3 (s.Return ([]) ([]) ([])) s.NoBlock s.End))) ≡ (RefusedAt 2 15 2)
unfolding computing
conditions_288 = refl

conditions_289 : body_verdict (record { predicates = ([]); specs = ((record { is_void = true; name = name_f; params = (name_p ∷ []); vars = ((name_v, sort.Val) ∷ []); pre = (record { opened = []; facts = ([]); locals = ((name_p, (Var 0 sort.Val)) ∷ []); items = ((Data (Number (pos 64)) (Var 0 sort.Val) (Of2 binary.Cons (Of unary.Vi (Number (pos 4))) Nil)) ∷ (Token (Var 0 sort.Val) (Number (pos 1))) ∷ []) }); post = (record { opened = []; facts = ([]); locals = []; items = ([]) }) }) ∷ []) }) (record { is_void = true; name = name_f; params = (name_p ∷ []); vars = ((name_v, sort.Val) ∷ []); pre = (record { opened = []; facts = ([]); locals = ((name_p, (Var 0 sort.Val)) ∷ []); items = ((Data (Number (pos 64)) (Var 0 sort.Val) (Of2 binary.Cons (Of unary.Vi (Number (pos 4))) Nil)) ∷ (Token (Var 0 sort.Val) (Number (pos 1))) ∷ []) }); post = (record { opened = []; facts = ([]); locals = []; items = ([]) }) }) (record { temps = (name_p ∷ []); body = (c.Then (c.Free (c.Temp 0)) (c.Then (c.Return None) c.End)) }) (s.Then 1 (s.Free 0 1 ((record { lines = ((line.Comb (((pos 1), 0) ∷ [])) ∷ []) }) ∷ [])) s.NoBlock (s.Then 2 (s.Return ([]) ([]) ([])) s.NoBlock s.End)) ≡ (RefusedAt 1 15 3)
unfolding computing
conditions_289 = refl

conditions_290 : body_verdict (record { predicates = ([]); specs = ((record { is_void = true; name = name_f; params = (name_p ∷ []); vars = ((name_v, sort.Val) ∷ []); pre = (record { opened = []; facts = ([]); locals = ((name_p, (Var 0 sort.Val)) ∷ []); items = ((Data (Number (pos 64)) (Var 0 sort.Val) (Of2 binary.Cons (Of unary.Vi (Number (pos 4))) Nil)) ∷ (Token (Var 0 sort.Val) (Number (pos 2))) ∷ []) }); post = (record { opened = []; facts = ([]); locals = []; items = ([]) }) }) ∷ []) }) (record { is_void = true; name = name_f; params = (name_p ∷ []); vars = ((name_v, sort.Val) ∷ []); pre = (record { opened = []; facts = ([]); locals = ((name_p, (Var 0 sort.Val)) ∷ []); items = ((Data (Number (pos 64)) (Var 0 sort.Val) (Of2 binary.Cons (Of unary.Vi (Number (pos 4))) Nil)) ∷ (Token (Var 0 sort.Val) (Number (pos 2))) ∷ []) }); post = (record { opened = []; facts = ([]); locals = []; items = ([]) }) }) (record { temps = (name_p ∷ []); body = (c.Then (c.Free (c.Temp 0)) (c.Then (c.Return None) c.End)) }) (s.Then 1 (s.Free 0 1 ([])) s.NoBlock (s.Then 2 (s.Return ([]) ([]) ([])) s.NoBlock s.End)) ≡ (RefusedAt 1 15 3)
unfolding computing
conditions_290 = refl

conditions_291 : body_verdict (record { predicates = ([]); specs = ((record { is_void = true; name = name_f; params = (name_p ∷ []); vars = ((name_v, sort.Val) ∷ []); pre = (record { opened = []; facts = ([]); locals = ((name_p, (Var 0 sort.Val)) ∷ []); items = ((Data (Number (pos 64)) (Var 0 sort.Val) (Of2 binary.Cons (Of unary.Vi (Number (pos 4))) Nil)) ∷ (Token (Var 0 sort.Val) (Number (pos 2))) ∷ []) }); post = (record { opened = []; facts = ([]); locals = []; items = ([]) }) }) ∷ []) }) (record { is_void = true; name = name_f; params = (name_p ∷ []); vars = ((name_v, sort.Val) ∷ []); pre = (record { opened = []; facts = ([]); locals = ((name_p, (Var 0 sort.Val)) ∷ []); items = ((Data (Number (pos 64)) (Var 0 sort.Val) (Of2 binary.Cons (Of unary.Vi (Number (pos 4))) Nil)) ∷ (Token (Var 0 sort.Val) (Number (pos 2))) ∷ []) }); post = (record { opened = []; facts = ([]); locals = []; items = ([]) }) }) (record { temps = (name_p ∷ []); body = (c.Then (c.Free (c.Temp 0)) (c.Then (c.Return None) c.End)) }) (s.Then 1 (s.Free 1 0 ([])) s.NoBlock (s.Then 2 (s.Return ([]) ([]) ([])) s.NoBlock s.End)) ≡ (RefusedAt 1 15 1)
unfolding computing
conditions_291 = refl

conditions_292 : body_verdict (record { predicates = ([]); specs = ((record { is_void = true; name = name_f; params = (name_p ∷ []); vars = ((name_v, sort.Val) ∷ []); pre = (record { opened = []; facts = ([]); locals = ((name_p, (Var 0 sort.Val)) ∷ []); items = ((Data (Number (pos 64)) (Var 0 sort.Val) (Of2 binary.Cons (Of unary.Vi (Number (pos 4))) Nil)) ∷ (Token (Var 0 sort.Val) (Number (pos 2))) ∷ []) }); post = (record { opened = []; facts = ([]); locals = []; items = ([]) }) }) ∷ []) }) (record { is_void = true; name = name_f; params = (name_p ∷ []); vars = ((name_v, sort.Val) ∷ []); pre = (record { opened = []; facts = ([]); locals = ((name_p, (Var 0 sort.Val)) ∷ []); items = ((Data (Number (pos 64)) (Var 0 sort.Val) (Of2 binary.Cons (Of unary.Vi (Number (pos 4))) Nil)) ∷ (Token (Var 0 sort.Val) (Number (pos 2))) ∷ []) }); post = (record { opened = []; facts = ([]); locals = []; items = ([]) }) }) (record { temps = (name_p ∷ []); body = (c.Then (c.Free (c.Temp 0)) (c.Then (c.Return None) c.End)) }) (s.Then 1 (s.Free 0 0 ([])) s.NoBlock (s.Then 2 (s.Return ([]) ([]) ([])) s.NoBlock s.End)) ≡ (RefusedAt 1 15 1)
unfolding computing
conditions_292 = refl

conditions_293 : body_verdict (record { predicates = ([]); specs = ((record { is_void = true; name = name_f; params = (name_p ∷ []); vars = ((name_v, sort.Val) ∷ []); pre = (record { opened = []; facts = ([]); locals = ((name_p, (Var 0 sort.Val)) ∷ []); items = ((Data (Number (pos 64)) (Var 0 sort.Val) (Of2 binary.Cons (Of unary.Vi (Number (pos 4))) Nil)) ∷ (Token (Var 0 sort.Val) (Number (pos 2))) ∷ []) }); post = (record { opened = []; facts = ([]); locals = []; items = ([]) }) }) ∷ []) }) (record { is_void = true; name = name_f; params = (name_p ∷ []); vars = ((name_v, sort.Val) ∷ []); pre = (record { opened = []; facts = ([]); locals = ((name_p, (Var 0 sort.Val)) ∷ []); items = ((Data (Number (pos 64)) (Var 0 sort.Val) (Of2 binary.Cons (Of unary.Vi (Number (pos 4))) Nil)) ∷ (Token (Var 0 sort.Val) (Number (pos 2))) ∷ []) }); post = (record { opened = []; facts = ([]); locals = []; items = ([]) }) }) (record { temps = (name_p ∷ []); body = (c.Then (c.Free (c.Temp 0)) (c.Then (c.Return None) c.End)) }) (s.Then 1 (s.Free 1 1 ([])) s.NoBlock (s.Then 2 (s.Return ([]) ([]) ([])) s.NoBlock s.End)) ≡ (RefusedAt 1 15 1)
unfolding computing
conditions_293 = refl

conditions_294 : body_verdict (record { predicates = ([]); specs = ((record { is_void = true; name = name_f; params = (name_p ∷ []); vars = ((name_v, sort.Val) ∷ []); pre = (record { opened = []; facts = ([]); locals = ((name_p, (Var 0 sort.Val)) ∷ []); items = ((Data (Number (pos 64)) (Var 0 sort.Val) (Of2 binary.Cons (Of unary.Vi (Number (pos 4))) Nil)) ∷ (Token (Var 0 sort.Val) (Number (pos 2))) ∷ []) }); post = (record { opened = []; facts = ([]); locals = []; items = ([]) }) }) ∷ []) }) (record { is_void = true; name = name_f; params = (name_p ∷ []); vars = ((name_v, sort.Val) ∷ []); pre = (record { opened = []; facts = ([]); locals = ((name_p, (Var 0 sort.Val)) ∷ []); items = ((Data (Number (pos 64)) (Var 0 sort.Val) (Of2 binary.Cons (Of unary.Vi (Number (pos 4))) Nil)) ∷ (Token (Var 0 sort.Val) (Number (pos 2))) ∷ []) }); post = (record { opened = []; facts = ([]); locals = []; items = ([]) }) }) (record { temps = (name_p ∷ []); body = (c.Then (c.Free (c.Temp 0)) (c.Then (c.Return None) c.End)) }) (s.Then 1 (s.Free 0 2 ([])) s.NoBlock (s.Then 2 (s.Return ([]) ([]) ([])) s.NoBlock s.End)) ≡ (RefusedAt 1 15 1)
unfolding computing
conditions_294 = refl

conditions_295 : body_verdict (record { predicates = ([]); specs = ((record { is_void = true; name = name_f; params = (name_p ∷ []); vars = ((name_v, sort.Val) ∷ []); pre = (record { opened = []; facts = ([]); locals = ((name_p, (Var 0 sort.Val)) ∷ []); items = ((Data (Number (pos 64)) (Var 0 sort.Val) (Of2 binary.Cons (Of unary.Vi (Number (pos 4))) Nil)) ∷ (Token (Var 0 sort.Val) (Number (pos 2))) ∷ []) }); post = (record { opened = []; facts = ([]); locals = []; items = ([]) }) }) ∷ []) }) (record { is_void = true; name = name_f; params = (name_p ∷ []); vars = ((name_v, sort.Val) ∷ []); pre = (record { opened = []; facts = ([]); locals = ((name_p, (Var 0 sort.Val)) ∷ []); items = ((Data (Number (pos 64)) (Var 0 sort.Val) (Of2 binary.Cons (Of unary.Vi (Number (pos 4))) Nil)) ∷ (Token (Var 0 sort.Val) (Number (pos 2))) ∷ []) }); post = (record { opened = []; facts = ([]); locals = []; items = ([]) }) }) (record { temps = (name_p ∷ []); body = (c.Then (c.Free (c.Temp 0)) (c.Then (c.Return None) c.End)) }) (s.Then 1 (s.Forget (forgotten.Local name_p)) s.NoBlock (s.Then 2 (s.Free 0 1 ([])) s.NoBlock (s.Then 3 (s.Return ([]) ([]) ([])) s.NoBlock s.End))) ≡ (RefusedAt 2 15 2)
unfolding computing
conditions_295 = refl

conditions_296 : body_verdict (record { predicates = ([]); specs = ((record { is_void = true; name = name_f; params = (name_p ∷ []); vars = ((name_v, sort.Val) ∷ []); pre = (record { opened = []; facts = ([]); locals = ((name_p, (Var 0 sort.Val)) ∷ []); items = ((Data (Number (pos 64)) (Var 0 sort.Val) (Of2 binary.Cons (Of unary.Vi (Number (pos 4))) Nil)) ∷ (Token (Var 0 sort.Val) (Number (pos 2))) ∷ []) }); post = (record { opened = []; facts = ([]); locals = []; items = ([]) }) }) ∷ []) }) (record { is_void = true; name = name_f; params = (name_p ∷ []); vars = ((name_v, sort.Val) ∷ []); pre = (record { opened = []; facts = ([]); locals = ((name_p, (Var 0 sort.Val)) ∷ []); items = ((Data (Number (pos 64)) (Var 0 sort.Val) (Of2 binary.Cons (Of unary.Vi (Number (pos 4))) Nil)) ∷ (Token (Var 0 sort.Val) (Number (pos 2))) ∷ []) }); post = (record { opened = []; facts = ([]); locals = []; items = ([]) }) }) (record { temps = (name_p ∷ []); body = (c.Then (c.Free (c.Temp 0)) (c.Then (c.Return None) c.End)) }) (s.Then 1 (s.Free 0 1 ((record { lines = ((line.Comb (((pos 1), 0) ∷ [])) ∷ []) }) ∷ [])) s.NoBlock (s.Then 2 (s.Return ([]) ([]) ([])) s.NoBlock s.End)) ≡ (RefusedAt 1 15 3)
unfolding computing
conditions_296 = refl

conditions_297 : body_verdict (record { predicates = ([]); specs = ((record { is_void = true; name = name_f; params = (name_p ∷ []); vars = ((name_v, sort.Val) ∷ (name_w, sort.Val) ∷ (name_k, sort.List) ∷ []); pre = (record { opened = []; facts = ([]); locals = ((name_p, (Var 0 sort.Val)) ∷ []); items = ((Data (Number (pos 64)) (Var 1 sort.Val) (Of2 binary.Cons (Of unary.Vi (Number (pos 4))) Nil)) ∷ (Token (Var 0 sort.Val) (Number (pos 1))) ∷ []) }); post = (record { opened = []; facts = ([]); locals = []; items = ([]) }) }) ∷ []) }) (record { is_void = true; name = name_f; params = (name_p ∷ []); vars = ((name_v, sort.Val) ∷ (name_w, sort.Val) ∷ (name_k, sort.List) ∷ []); pre = (record { opened = []; facts = ([]); locals = ((name_p, (Var 0 sort.Val)) ∷ []); items = ((Data (Number (pos 64)) (Var 1 sort.Val) (Of2 binary.Cons (Of unary.Vi (Number (pos 4))) Nil)) ∷ (Token (Var 0 sort.Val) (Number (pos 1))) ∷ []) }); post = (record { opened = []; facts = ([]); locals = []; items = ([]) }) }) (record { temps = (name_p ∷ []); body = (c.Then (c.Free (c.Temp 0)) (c.Then (c.Return None) c.End)) }) (s.Then 1 (s.Free 0 1 ([])) s.NoBlock (s.Then 2 (s.Return ([]) ([]) ([])) s.NoBlock s.End)) ≡ (RefusedAt 1 15 1)
unfolding computing
conditions_297 = refl

conditions_298 : body_verdict (record { predicates = ([]); specs = ((record { is_void = true; name = name_f; params = (name_p ∷ []); vars = ((name_v, sort.Val) ∷ (name_w, sort.Val) ∷ (name_k, sort.List) ∷ []); pre = (record { opened = []; facts = ([]); locals = ((name_p, (Var 0 sort.Val)) ∷ []); items = ((Data (Number (pos 64)) (Var 0 sort.Val) (Of2 binary.Cons (Of unary.Vi (Number (pos 4))) Nil)) ∷ (Token (Var 1 sort.Val) (Number (pos 1))) ∷ []) }); post = (record { opened = []; facts = ([]); locals = []; items = ([]) }) }) ∷ []) }) (record { is_void = true; name = name_f; params = (name_p ∷ []); vars = ((name_v, sort.Val) ∷ (name_w, sort.Val) ∷ (name_k, sort.List) ∷ []); pre = (record { opened = []; facts = ([]); locals = ((name_p, (Var 0 sort.Val)) ∷ []); items = ((Data (Number (pos 64)) (Var 0 sort.Val) (Of2 binary.Cons (Of unary.Vi (Number (pos 4))) Nil)) ∷ (Token (Var 1 sort.Val) (Number (pos 1))) ∷ []) }); post = (record { opened = []; facts = ([]); locals = []; items = ([]) }) }) (record { temps = (name_p ∷ []); body = (c.Then (c.Free (c.Temp 0)) (c.Then (c.Return None) c.End)) }) (s.Then 1 (s.Free 0 1 ([])) s.NoBlock (s.Then 2 (s.Return ([]) ([]) ([])) s.NoBlock s.End)) ≡ (RefusedAt 1 15 1)
unfolding computing
conditions_298 = refl

conditions_299 : body_verdict (record { predicates = ([]); specs = ((record { is_void = true; name = name_f; params = (name_p ∷ []); vars = ((name_v, sort.Val) ∷ (name_w, sort.Val) ∷ (name_k, sort.List) ∷ []); pre = (record { opened = []; facts = ([]); locals = ((name_p, (Var 0 sort.Val)) ∷ []); items = ((Data (Number (pos 64)) (Var 0 sort.Val) (Var 2 sort.List)) ∷ (Token (Var 0 sort.Val) (Number (pos 1))) ∷ []) }); post = (record { opened = []; facts = ([]); locals = []; items = ([]) }) }) ∷ []) }) (record { is_void = true; name = name_f; params = (name_p ∷ []); vars = ((name_v, sort.Val) ∷ (name_w, sort.Val) ∷ (name_k, sort.List) ∷ []); pre = (record { opened = []; facts = ([]); locals = ((name_p, (Var 0 sort.Val)) ∷ []); items = ((Data (Number (pos 64)) (Var 0 sort.Val) (Var 2 sort.List)) ∷ (Token (Var 0 sort.Val) (Number (pos 1))) ∷ []) }); post = (record { opened = []; facts = ([]); locals = []; items = ([]) }) }) (record { temps = (name_p ∷ []); body = (c.Then (c.Free (c.Temp 0)) (c.Then (c.Return None) c.End)) }) (s.Then 1 (s.Free 0 1 ([])) s.NoBlock (s.Then 2 (s.Return ([]) ([]) ([])) s.NoBlock s.End)) ≡ (RefusedAt 1 15 3)
unfolding computing
conditions_299 = refl

conditions_300 : body_verdict (record { predicates = ([]); specs = ((record { is_void = false; name = name_f; params = (name_p ∷ []); vars = ((name_v, sort.Val) ∷ []); pre = (record { opened = []; facts = ([]); locals = ((name_p, (Var 0 sort.Val)) ∷ []); items = ((Data (Number (pos 64)) (Var 0 sort.Val) (Of2 binary.Cons (Of unary.Vi (Number (pos 4))) Nil)) ∷ []) }); post = (record { opened = []; facts = ([]); locals = []; items = ((Data (Number (pos 64)) (Var 0 sort.Val) (Of2 binary.Cons (Of unary.Vi (Number (pos 4))) Nil)) ∷ []) }) }) ∷ []) }) (record { is_void = false; name = name_f; params = (name_p ∷ []); vars = ((name_v, sort.Val) ∷ []); pre = (record { opened = []; facts = ([]); locals = ((name_p, (Var 0 sort.Val)) ∷ []); items = ((Data (Number (pos 64)) (Var 0 sort.Val) (Of2 binary.Cons (Of unary.Vi (Number (pos 4))) Nil)) ∷ []) }); post = (record { opened = []; facts = ([]); locals = []; items = ((Data (Number (pos 64)) (Var 0 sort.Val) (Of2 binary.Cons (Of unary.Vi (Number (pos 4))) Nil)) ∷ []) }) }) (record { temps = (name_p ∷ name_t ∷ []); body = (c.Then (c.Malloc 1 1) (c.Then (c.Return (Some (c.Temp 1))) c.End)) }) (s.Then 1 (s.Malloc name_m ([]) ([])) (s.WithBlock (s.Then 2 (s.Return ([]) ([]) ([])) s.NoBlock s.End) (s.WithBlock (s.Then 3 (s.Return ([]) ([]) ([])) s.NoBlock s.End) s.NoBlock)) s.End) ≡ (RefusedAt 3 9 5)
unfolding computing
conditions_300 = refl
