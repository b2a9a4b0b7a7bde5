-- Each condition of each rule, where it holds and where it fails.
use Rattle.std.specs.Prelude.{◌≡◌, refl, pos, [], ◌∷◌, false, Some}
use Rattle.vd_terms.specs.Terms.{Number, Var, Named, Nil, Of, Of2}
use Rattle.vd_terms.specs.declared.assertion.FactOf.TheVariants.{Rel}
use Rattle.vd_terms.specs.declared.assertion.ItemOf.TheVariants.{Data, Pred}
use Rattle.vd_rules.specs.Computing.{computing}
use Rattle.vd_rules.specs.Verdicts.{Accepted, RefusedAt, body_verdict}
use Rattle.vd_terms.specs.declared.operation.Unary.TheVariants as unary
use Rattle.vd_terms.specs.declared.operation.Binary.TheVariants as binary
use Rattle.vd_logic.specs.declared.term.Sort.TheVariants as sort
use Rattle.vd_logic.specs.declared.assertion.Rel.TheVariants as relation
use Rattle.vd_logic.specs.declared.step.CertLine.TheVariants as line
use Rattle.vd_logic.specs.declared.step.Forgotten.TheVariants as forgotten
use Rattle.vd_clight.specs.declared.syntax.BinOp.TheVariants as two
use Rattle.vd_clight.specs.declared.typed.Kind.TheVariants as kind
use Rattle.vd_steps.specs.Code as c
use Rattle.vd_steps.specs.Script as s
use Rattle.vd_examples.specs.Names.{name_Z, name_a, name_b, name_f, name_k, name_p, name_q, name_t, name_v, name_z}

conditions_101 : body_verdict (record { predicates = ([]); specs = ((record { is_void = false; name = name_f; params = (name_p ∷ name_q ∷ []); vars = ((name_a, sort.Int) ∷ (name_b, sort.Int) ∷ []); pre = (record { opened = []; facts = ((Rel relation.Le (Number (pos 0)) (Var 0 sort.Int)) ∷ (Rel relation.Le (Var 0 sort.Int) (Number (pos 9))) ∷ (Rel relation.Le (Number (pos 0)) (Var 1 sort.Int)) ∷ (Rel relation.Le (Var 1 sort.Int) (Number (pos 9))) ∷ []); locals = ((name_p, (Of unary.Vi (Var 0 sort.Int))) ∷ (name_q, (Of unary.Vi (Var 1 sort.Int))) ∷ []); items = ([]) }); post = (record { opened = []; facts = ((Rel relation.Eq (Var 2 sort.Val) (Of unary.Vi (Of2 binary.Lt (Var 0 sort.Int) (Var 1 sort.Int)))) ∷ []); locals = []; items = ([]) }) }) ∷ []) }) (record { is_void = false; name = name_f; params = (name_p ∷ name_q ∷ []); vars = ((name_a, sort.Int) ∷ (name_b, sort.Int) ∷ []); pre = (record { opened = []; facts = ((Rel relation.Le (Number (pos 0)) (Var 0 sort.Int)) ∷ (Rel relation.Le (Var 0 sort.Int) (Number (pos 9))) ∷ (Rel relation.Le (Number (pos 0)) (Var 1 sort.Int)) ∷ (Rel relation.Le (Var 1 sort.Int) (Number (pos 9))) ∷ []); locals = ((name_p, (Of unary.Vi (Var 0 sort.Int))) ∷ (name_q, (Of unary.Vi (Var 1 sort.Int))) ∷ []); items = ([]) }); post = (record { opened = []; facts = ((Rel relation.Eq (Var 2 sort.Val) (Of unary.Vi (Of2 binary.Lt (Var 0 sort.Int) (Var 1 sort.Int)))) ∷ []); locals = []; items = ([]) }) }) (record { temps = (name_p ∷ name_q ∷ name_t ∷ []); body = (c.Then (c.Set 2 (c.Binary two.Ne kind.Signed (c.Temp 0) (c.Temp 1))) (c.Then (c.Return (Some (c.Temp 2))) c.End)) }) (s.Then 1 (s.Set ([]) ((record { lines = ((line.Comb (((pos 1), 0) ∷ ((pos 1), 4) ∷ [])) ∷ []) }) ∷ (record { lines = ((line.Comb (((pos 1), 1) ∷ ((pos 1), 4) ∷ [])) ∷ []) }) ∷ (record { lines = ((line.Comb (((pos 1), 2) ∷ ((pos 1), 4) ∷ [])) ∷ []) }) ∷ (record { lines = ((line.Comb (((pos 1), 3) ∷ ((pos 1), 4) ∷ [])) ∷ []) }) ∷ [])) s.NoBlock (s.Then 2 (s.Return ([]) ([]) ([])) s.NoBlock s.End)) ≡ (RefusedAt 2 9 3)
unfolding computing
conditions_101 = refl

conditions_102 : body_verdict (record { predicates = ([]); specs = ((record { is_void = false; name = name_f; params = (name_p ∷ name_q ∷ []); vars = ((name_a, sort.Int) ∷ (name_b, sort.Int) ∷ []); pre = (record { opened = []; facts = ((Rel relation.Le (Number (pos 0)) (Var 0 sort.Int)) ∷ (Rel relation.Le (Var 0 sort.Int) (Number (pos 9))) ∷ (Rel relation.Le (Number (pos 0)) (Var 1 sort.Int)) ∷ (Rel relation.Le (Var 1 sort.Int) (Number (pos 9))) ∷ []); locals = ((name_p, (Of unary.Vi (Var 0 sort.Int))) ∷ (name_q, (Of unary.Vi (Var 1 sort.Int))) ∷ []); items = ([]) }); post = (record { opened = []; facts = ((Rel relation.Eq (Var 2 sort.Val) (Of unary.Vi (Of2 binary.Le (Var 0 sort.Int) (Var 1 sort.Int)))) ∷ []); locals = []; items = ([]) }) }) ∷ []) }) (record { is_void = false; name = name_f; params = (name_p ∷ name_q ∷ []); vars = ((name_a, sort.Int) ∷ (name_b, sort.Int) ∷ []); pre = (record { opened = []; facts = ((Rel relation.Le (Number (pos 0)) (Var 0 sort.Int)) ∷ (Rel relation.Le (Var 0 sort.Int) (Number (pos 9))) ∷ (Rel relation.Le (Number (pos 0)) (Var 1 sort.Int)) ∷ (Rel relation.Le (Var 1 sort.Int) (Number (pos 9))) ∷ []); locals = ((name_p, (Of unary.Vi (Var 0 sort.Int))) ∷ (name_q, (Of unary.Vi (Var 1 sort.Int))) ∷ []); items = ([]) }); post = (record { opened = []; facts = ((Rel relation.Eq (Var 2 sort.Val) (Of unary.Vi (Of2 binary.Le (Var 0 sort.Int) (Var 1 sort.Int)))) ∷ []); locals = []; items = ([]) }) }) (record { temps = (name_p ∷ name_q ∷ name_t ∷ []); body = (c.Then (c.Set 2 (c.Binary two.Ne kind.Signed (c.Temp 0) (c.Temp 1))) (c.Then (c.Return (Some (c.Temp 2))) c.End)) }) (s.Then 1 (s.Set ([]) ((record { lines = ((line.Comb (((pos 1), 0) ∷ ((pos 1), 4) ∷ [])) ∷ []) }) ∷ (record { lines = ((line.Comb (((pos 1), 1) ∷ ((pos 1), 4) ∷ [])) ∷ []) }) ∷ (record { lines = ((line.Comb (((pos 1), 2) ∷ ((pos 1), 4) ∷ [])) ∷ []) }) ∷ (record { lines = ((line.Comb (((pos 1), 3) ∷ ((pos 1), 4) ∷ [])) ∷ []) }) ∷ [])) s.NoBlock (s.Then 2 (s.Return ([]) ([]) ([])) s.NoBlock s.End)) ≡ (RefusedAt 2 9 3)
unfolding computing
conditions_102 = refl

conditions_103 : body_verdict (record { predicates = ([]); specs = ((record { is_void = false; name = name_f; params = (name_p ∷ name_q ∷ []); vars = ((name_a, sort.Int) ∷ (name_b, sort.Int) ∷ []); pre = (record { opened = []; facts = ((Rel relation.Le (Of2 binary.Sub (Number (pos 0)) (Number (pos 5))) (Var 0 sort.Int)) ∷ (Rel relation.Le (Var 0 sort.Int) (Number (pos 9))) ∷ (Rel relation.Le (Of2 binary.Sub (Number (pos 0)) (Number (pos 5))) (Var 1 sort.Int)) ∷ (Rel relation.Le (Var 1 sort.Int) (Number (pos 9))) ∷ []); locals = ((name_p, (Of unary.Vi (Var 0 sort.Int))) ∷ (name_q, (Of unary.Vi (Var 1 sort.Int))) ∷ []); items = ([]) }); post = (record { opened = []; facts = ([]); locals = []; items = ([]) }) }) ∷ []) }) (record { is_void = false; name = name_f; params = (name_p ∷ name_q ∷ []); vars = ((name_a, sort.Int) ∷ (name_b, sort.Int) ∷ []); pre = (record { opened = []; facts = ((Rel relation.Le (Of2 binary.Sub (Number (pos 0)) (Number (pos 5))) (Var 0 sort.Int)) ∷ (Rel relation.Le (Var 0 sort.Int) (Number (pos 9))) ∷ (Rel relation.Le (Of2 binary.Sub (Number (pos 0)) (Number (pos 5))) (Var 1 sort.Int)) ∷ (Rel relation.Le (Var 1 sort.Int) (Number (pos 9))) ∷ []); locals = ((name_p, (Of unary.Vi (Var 0 sort.Int))) ∷ (name_q, (Of unary.Vi (Var 1 sort.Int))) ∷ []); items = ([]) }); post = (record { opened = []; facts = ([]); locals = []; items = ([]) }) }) (record { temps = (name_p ∷ name_q ∷ []); body = (c.Then (c.If (c.Nonzero kind.Signed (c.Binary two.Ne kind.Signed (c.Temp 0) (c.Temp 1))) (c.Then (c.Return (Some (c.Const 0))) c.End) c.End) (c.Then (c.Return (Some (c.Const 1))) c.End)) }) (s.Then 1 (s.If ([]) ((record { lines = ((line.Comb (((pos 1), 0) ∷ ((pos 1), 4) ∷ [])) ∷ []) }) ∷ (record { lines = ((line.Comb (((pos 1), 1) ∷ ((pos 1), 4) ∷ [])) ∷ []) }) ∷ (record { lines = ((line.Comb (((pos 1), 2) ∷ ((pos 1), 4) ∷ [])) ∷ []) }) ∷ (record { lines = ((line.Comb (((pos 1), 3) ∷ ((pos 1), 4) ∷ [])) ∷ []) }) ∷ []) ([]) ([])) (s.WithBlock (s.Then 2 (s.Have (Rel relation.Lt (Named name_a) (Named name_b)) ([])) s.NoBlock (s.Then 3 (s.Return ([]) ([]) ([])) s.NoBlock s.End)) (s.WithBlock (s.Then 4 (s.Have (Rel relation.Le (Named name_b) (Named name_a)) ([])) s.NoBlock (s.Then 5 (s.Return ([]) ([]) ([])) s.NoBlock s.End)) s.NoBlock)) s.End) ≡ (RefusedAt 2 25 3)
unfolding computing
conditions_103 = refl

conditions_104 : body_verdict (record { predicates = ([]); specs = ((record { is_void = false; name = name_f; params = (name_p ∷ name_q ∷ []); vars = ((name_a, sort.Int) ∷ (name_b, sort.Int) ∷ []); pre = (record { opened = []; facts = ((Rel relation.Le (Of2 binary.Sub (Number (pos 0)) (Number (pos 5))) (Var 0 sort.Int)) ∷ (Rel relation.Le (Var 0 sort.Int) (Number (pos 9))) ∷ (Rel relation.Le (Of2 binary.Sub (Number (pos 0)) (Number (pos 5))) (Var 1 sort.Int)) ∷ (Rel relation.Le (Var 1 sort.Int) (Number (pos 9))) ∷ []); locals = ((name_p, (Of unary.Vi (Var 0 sort.Int))) ∷ (name_q, (Of unary.Vi (Var 1 sort.Int))) ∷ []); items = ([]) }); post = (record { opened = []; facts = ([]); locals = []; items = ([]) }) }) ∷ []) }) (record { is_void = false; name = name_f; params = (name_p ∷ name_q ∷ []); vars = ((name_a, sort.Int) ∷ (name_b, sort.Int) ∷ []); pre = (record { opened = []; facts = ((Rel relation.Le (Of2 binary.Sub (Number (pos 0)) (Number (pos 5))) (Var 0 sort.Int)) ∷ (Rel relation.Le (Var 0 sort.Int) (Number (pos 9))) ∷ (Rel relation.Le (Of2 binary.Sub (Number (pos 0)) (Number (pos 5))) (Var 1 sort.Int)) ∷ (Rel relation.Le (Var 1 sort.Int) (Number (pos 9))) ∷ []); locals = ((name_p, (Of unary.Vi (Var 0 sort.Int))) ∷ (name_q, (Of unary.Vi (Var 1 sort.Int))) ∷ []); items = ([]) }); post = (record { opened = []; facts = ([]); locals = []; items = ([]) }) }) (record { temps = (name_p ∷ name_q ∷ []); body = (c.Then (c.If (c.Nonzero kind.Signed (c.Binary two.Ne kind.Signed (c.Temp 0) (c.Temp 1))) (c.Then (c.Return (Some (c.Const 0))) c.End) c.End) (c.Then (c.Return (Some (c.Const 1))) c.End)) }) (s.Then 1 (s.If ([]) ((record { lines = ((line.Comb (((pos 1), 0) ∷ ((pos 1), 4) ∷ [])) ∷ []) }) ∷ (record { lines = ((line.Comb (((pos 1), 1) ∷ ((pos 1), 4) ∷ [])) ∷ []) }) ∷ (record { lines = ((line.Comb (((pos 1), 2) ∷ ((pos 1), 4) ∷ [])) ∷ []) }) ∷ (record { lines = ((line.Comb (((pos 1), 3) ∷ ((pos 1), 4) ∷ [])) ∷ []) }) ∷ []) ([]) ([])) (s.WithBlock (s.Then 2 (s.Have (Rel relation.Le (Named name_a) (Named name_b)) ([])) s.NoBlock (s.Then 3 (s.Return ([]) ([]) ([])) s.NoBlock s.End)) (s.WithBlock (s.Then 4 (s.Have (Rel relation.Lt (Named name_b) (Named name_a)) ([])) s.NoBlock (s.Then 5 (s.Return ([]) ([]) ([])) s.NoBlock s.End)) s.NoBlock)) s.End) ≡ (RefusedAt 2 25 3)
unfolding computing
conditions_104 = refl

conditions_105 : body_verdict (record { predicates = ([]); specs = ((record { is_void = false; name = name_f; params = (name_p ∷ name_q ∷ []); vars = ((name_a, sort.Int) ∷ (name_b, sort.Int) ∷ []); pre = (record { opened = []; facts = ((Rel relation.Le (Of2 binary.Sub (Number (pos 0)) (Number (pos 5))) (Var 0 sort.Int)) ∷ (Rel relation.Le (Var 0 sort.Int) (Number (pos 9))) ∷ (Rel relation.Le (Of2 binary.Sub (Number (pos 0)) (Number (pos 5))) (Var 1 sort.Int)) ∷ (Rel relation.Le (Var 1 sort.Int) (Number (pos 9))) ∷ []); locals = ((name_p, (Of unary.Vi (Var 0 sort.Int))) ∷ (name_q, (Of unary.Vi (Var 1 sort.Int))) ∷ []); items = ([]) }); post = (record { opened = []; facts = ([]); locals = []; items = ([]) }) }) ∷ []) }) (record { is_void = false; name = name_f; params = (name_p ∷ name_q ∷ []); vars = ((name_a, sort.Int) ∷ (name_b, sort.Int) ∷ []); pre = (record { opened = []; facts = ((Rel relation.Le (Of2 binary.Sub (Number (pos 0)) (Number (pos 5))) (Var 0 sort.Int)) ∷ (Rel relation.Le (Var 0 sort.Int) (Number (pos 9))) ∷ (Rel relation.Le (Of2 binary.Sub (Number (pos 0)) (Number (pos 5))) (Var 1 sort.Int)) ∷ (Rel relation.Le (Var 1 sort.Int) (Number (pos 9))) ∷ []); locals = ((name_p, (Of unary.Vi (Var 0 sort.Int))) ∷ (name_q, (Of unary.Vi (Var 1 sort.Int))) ∷ []); items = ([]) }); post = (record { opened = []; facts = ([]); locals = []; items = ([]) }) }) (record { temps = (name_p ∷ name_q ∷ []); body = (c.Then (c.If (c.Nonzero kind.Signed (c.Binary two.Ne kind.Signed (c.Temp 0) (c.Temp 1))) (c.Then (c.Return (Some (c.Const 0))) c.End) c.End) (c.Then (c.Return (Some (c.Const 1))) c.End)) }) (s.Then 1 (s.If ([]) ((record { lines = ((line.Comb (((pos 1), 0) ∷ ((pos 1), 4) ∷ [])) ∷ []) }) ∷ (record { lines = ((line.Comb (((pos 1), 1) ∷ ((pos 1), 4) ∷ [])) ∷ []) }) ∷ (record { lines = ((line.Comb (((pos 1), 2) ∷ ((pos 1), 4) ∷ [])) ∷ []) }) ∷ (record { lines = ((line.Comb (((pos 1), 3) ∷ ((pos 1), 4) ∷ [])) ∷ []) }) ∷ []) ([]) ([])) (s.WithBlock (s.Then 2 (s.Have (Rel relation.Eq (Named name_a) (Named name_b)) ([])) s.NoBlock (s.Then 3 (s.Return ([]) ([]) ([])) s.NoBlock s.End)) (s.WithBlock (s.Then 4 (s.Have (Rel relation.Ne (Named name_a) (Named name_b)) ([])) s.NoBlock (s.Then 5 (s.Return ([]) ([]) ([])) s.NoBlock s.End)) s.NoBlock)) s.End) ≡ (RefusedAt 2 25 3)
unfolding computing
conditions_105 = refl

conditions_106 : body_verdict (record { predicates = ([]); specs = ((record { is_void = false; name = name_f; params = (name_p ∷ name_q ∷ []); vars = ((name_a, sort.Int) ∷ (name_b, sort.Int) ∷ []); pre = (record { opened = []; facts = ((Rel relation.Le (Of2 binary.Sub (Number (pos 0)) (Number (pos 5))) (Var 0 sort.Int)) ∷ (Rel relation.Le (Var 0 sort.Int) (Number (pos 9))) ∷ (Rel relation.Le (Of2 binary.Sub (Number (pos 0)) (Number (pos 5))) (Var 1 sort.Int)) ∷ (Rel relation.Le (Var 1 sort.Int) (Number (pos 9))) ∷ []); locals = ((name_p, (Of unary.Vi (Var 0 sort.Int))) ∷ (name_q, (Of unary.Vi (Var 1 sort.Int))) ∷ []); items = ([]) }); post = (record { opened = []; facts = ([]); locals = []; items = ([]) }) }) ∷ []) }) (record { is_void = false; name = name_f; params = (name_p ∷ name_q ∷ []); vars = ((name_a, sort.Int) ∷ (name_b, sort.Int) ∷ []); pre = (record { opened = []; facts = ((Rel relation.Le (Of2 binary.Sub (Number (pos 0)) (Number (pos 5))) (Var 0 sort.Int)) ∷ (Rel relation.Le (Var 0 sort.Int) (Number (pos 9))) ∷ (Rel relation.Le (Of2 binary.Sub (Number (pos 0)) (Number (pos 5))) (Var 1 sort.Int)) ∷ (Rel relation.Le (Var 1 sort.Int) (Number (pos 9))) ∷ []); locals = ((name_p, (Of unary.Vi (Var 0 sort.Int))) ∷ (name_q, (Of unary.Vi (Var 1 sort.Int))) ∷ []); items = ([]) }); post = (record { opened = []; facts = ([]); locals = []; items = ([]) }) }) (record { temps = (name_p ∷ name_q ∷ []); body = (c.Then (c.If (c.Nonzero kind.Signed (c.Binary two.Ne kind.Signed (c.Temp 0) (c.Temp 1))) (c.Then (c.Return (Some (c.Const 0))) c.End) c.End) (c.Then (c.Return (Some (c.Const 1))) c.End)) }) (s.Then 1 (s.If ([]) ((record { lines = ((line.Comb (((pos 1), 0) ∷ ((pos 1), 4) ∷ [])) ∷ []) }) ∷ (record { lines = ((line.Comb (((pos 1), 1) ∷ ((pos 1), 4) ∷ [])) ∷ []) }) ∷ (record { lines = ((line.Comb (((pos 1), 2) ∷ ((pos 1), 4) ∷ [])) ∷ []) }) ∷ (record { lines = ((line.Comb (((pos 1), 3) ∷ ((pos 1), 4) ∷ [])) ∷ []) }) ∷ []) ([]) ([])) (s.WithBlock (s.Then 2 (s.Have (Rel relation.Ne (Named name_a) (Named name_b)) ([])) s.NoBlock (s.Then 3 (s.Return ([]) ([]) ([])) s.NoBlock s.End)) (s.WithBlock (s.Then 4 (s.Have (Rel relation.Eq (Named name_b) (Named name_a)) ([])) s.NoBlock (s.Then 5 (s.Return ([]) ([]) ([])) s.NoBlock s.End)) s.NoBlock)) s.End) ≡ Accepted
unfolding computing
conditions_106 = refl

conditions_107 : body_verdict (record { predicates = ([]); specs = ((record { is_void = false; name = name_f; params = (name_p ∷ name_q ∷ []); vars = ((name_a, sort.Int) ∷ (name_b, sort.Int) ∷ []); pre = (record { opened = []; facts = ((Rel relation.Le (Number (pos 1)) (Var 0 sort.Int)) ∷ (Rel relation.Le (Var 0 sort.Int) (Number (pos 9))) ∷ (Rel relation.Le (Number (pos 1)) (Var 1 sort.Int)) ∷ (Rel relation.Le (Var 1 sort.Int) (Number (pos 9))) ∷ []); locals = ((name_p, (Of unary.Vi (Var 0 sort.Int))) ∷ (name_q, (Of unary.Vi (Var 1 sort.Int))) ∷ []); items = ([]) }); post = (record { opened = []; facts = ((Rel relation.Eq (Var 2 sort.Val) (Of unary.Vi (Of2 binary.Add (Var 0 sort.Int) (Var 1 sort.Int)))) ∷ []); locals = []; items = ([]) }) }) ∷ []) }) (record { is_void = false; name = name_f; params = (name_p ∷ name_q ∷ []); vars = ((name_a, sort.Int) ∷ (name_b, sort.Int) ∷ []); pre = (record { opened = []; facts = ((Rel relation.Le (Number (pos 1)) (Var 0 sort.Int)) ∷ (Rel relation.Le (Var 0 sort.Int) (Number (pos 9))) ∷ (Rel relation.Le (Number (pos 1)) (Var 1 sort.Int)) ∷ (Rel relation.Le (Var 1 sort.Int) (Number (pos 9))) ∷ []); locals = ((name_p, (Of unary.Vi (Var 0 sort.Int))) ∷ (name_q, (Of unary.Vi (Var 1 sort.Int))) ∷ []); items = ([]) }); post = (record { opened = []; facts = ((Rel relation.Eq (Var 2 sort.Val) (Of unary.Vi (Of2 binary.Add (Var 0 sort.Int) (Var 1 sort.Int)))) ∷ []); locals = []; items = ([]) }) }) (record { temps = (name_p ∷ name_q ∷ name_t ∷ []); body = (c.Then (c.Set 2 (c.Binary two.Add kind.Unsigned (c.Temp 0) (c.Temp 1))) (c.Then (c.Return (Some (c.Temp 2))) c.End)) }) (s.Then 1 (s.Set ([]) ([])) s.NoBlock (s.Then 2 (s.Return ([]) ([]) ([])) s.NoBlock s.End)) ≡ Accepted
unfolding computing
conditions_107 = refl

conditions_108 : body_verdict (record { predicates = ([]); specs = ((record { is_void = false; name = name_f; params = (name_p ∷ name_q ∷ []); vars = ((name_a, sort.Int) ∷ (name_b, sort.Int) ∷ []); pre = (record { opened = []; facts = ((Rel relation.Le (Number (pos 1)) (Var 0 sort.Int)) ∷ (Rel relation.Le (Var 0 sort.Int) (Number (pos 9))) ∷ (Rel relation.Le (Number (pos 1)) (Var 1 sort.Int)) ∷ (Rel relation.Le (Var 1 sort.Int) (Number (pos 9))) ∷ []); locals = ((name_p, (Of unary.Vi (Var 0 sort.Int))) ∷ (name_q, (Of unary.Vi (Var 1 sort.Int))) ∷ []); items = ([]) }); post = (record { opened = []; facts = ((Rel relation.Eq (Var 2 sort.Val) (Of unary.Vi (Of2 binary.Sub (Var 0 sort.Int) (Var 1 sort.Int)))) ∷ []); locals = []; items = ([]) }) }) ∷ []) }) (record { is_void = false; name = name_f; params = (name_p ∷ name_q ∷ []); vars = ((name_a, sort.Int) ∷ (name_b, sort.Int) ∷ []); pre = (record { opened = []; facts = ((Rel relation.Le (Number (pos 1)) (Var 0 sort.Int)) ∷ (Rel relation.Le (Var 0 sort.Int) (Number (pos 9))) ∷ (Rel relation.Le (Number (pos 1)) (Var 1 sort.Int)) ∷ (Rel relation.Le (Var 1 sort.Int) (Number (pos 9))) ∷ []); locals = ((name_p, (Of unary.Vi (Var 0 sort.Int))) ∷ (name_q, (Of unary.Vi (Var 1 sort.Int))) ∷ []); items = ([]) }); post = (record { opened = []; facts = ((Rel relation.Eq (Var 2 sort.Val) (Of unary.Vi (Of2 binary.Sub (Var 0 sort.Int) (Var 1 sort.Int)))) ∷ []); locals = []; items = ([]) }) }) (record { temps = (name_p ∷ name_q ∷ name_t ∷ []); body = (c.Then (c.Set 2 (c.Binary two.Sub kind.Unsigned (c.Temp 0) (c.Temp 1))) (c.Then (c.Return (Some (c.Temp 2))) c.End)) }) (s.Then 1 (s.Set ([]) ([])) s.NoBlock (s.Then 2 (s.Return ([]) ([]) ([])) s.NoBlock s.End)) ≡ Accepted
unfolding computing
conditions_108 = refl

conditions_109 : body_verdict (record { predicates = ([]); specs = ((record { is_void = false; name = name_f; params = (name_p ∷ name_q ∷ []); vars = ((name_a, sort.Int) ∷ (name_b, sort.Int) ∷ []); pre = (record { opened = []; facts = ((Rel relation.Le (Number (pos 1)) (Var 0 sort.Int)) ∷ (Rel relation.Le (Var 0 sort.Int) (Number (pos 9))) ∷ (Rel relation.Le (Number (pos 1)) (Var 1 sort.Int)) ∷ (Rel relation.Le (Var 1 sort.Int) (Number (pos 9))) ∷ []); locals = ((name_p, (Of unary.Vi (Var 0 sort.Int))) ∷ (name_q, (Of unary.Vi (Var 1 sort.Int))) ∷ []); items = ([]) }); post = (record { opened = []; facts = ((Rel relation.Eq (Var 2 sort.Val) (Of unary.Vi (Of2 binary.Sub (Var 1 sort.Int) (Var 0 sort.Int)))) ∷ []); locals = []; items = ([]) }) }) ∷ []) }) (record { is_void = false; name = name_f; params = (name_p ∷ name_q ∷ []); vars = ((name_a, sort.Int) ∷ (name_b, sort.Int) ∷ []); pre = (record { opened = []; facts = ((Rel relation.Le (Number (pos 1)) (Var 0 sort.Int)) ∷ (Rel relation.Le (Var 0 sort.Int) (Number (pos 9))) ∷ (Rel relation.Le (Number (pos 1)) (Var 1 sort.Int)) ∷ (Rel relation.Le (Var 1 sort.Int) (Number (pos 9))) ∷ []); locals = ((name_p, (Of unary.Vi (Var 0 sort.Int))) ∷ (name_q, (Of unary.Vi (Var 1 sort.Int))) ∷ []); items = ([]) }); post = (record { opened = []; facts = ((Rel relation.Eq (Var 2 sort.Val) (Of unary.Vi (Of2 binary.Sub (Var 1 sort.Int) (Var 0 sort.Int)))) ∷ []); locals = []; items = ([]) }) }) (record { temps = (name_p ∷ name_q ∷ name_t ∷ []); body = (c.Then (c.Set 2 (c.Binary two.Sub kind.Unsigned (c.Temp 0) (c.Temp 1))) (c.Then (c.Return (Some (c.Temp 2))) c.End)) }) (s.Then 1 (s.Set ([]) ([])) s.NoBlock (s.Then 2 (s.Return ([]) ([]) ([])) s.NoBlock s.End)) ≡ (RefusedAt 2 9 3)
unfolding computing
conditions_109 = refl

conditions_110 : body_verdict (record { predicates = ([]); specs = ((record { is_void = false; name = name_f; params = (name_p ∷ name_q ∷ []); vars = ((name_a, sort.Int) ∷ (name_b, sort.Int) ∷ []); pre = (record { opened = []; facts = ((Rel relation.Le (Number (pos 1)) (Var 0 sort.Int)) ∷ (Rel relation.Le (Var 0 sort.Int) (Number (pos 9))) ∷ (Rel relation.Le (Number (pos 1)) (Var 1 sort.Int)) ∷ (Rel relation.Le (Var 1 sort.Int) (Number (pos 9))) ∷ []); locals = ((name_p, (Of unary.Vi (Var 0 sort.Int))) ∷ (name_q, (Of unary.Vi (Var 1 sort.Int))) ∷ []); items = ([]) }); post = (record { opened = []; facts = ((Rel relation.Eq (Var 2 sort.Val) (Of unary.Vi (Of2 binary.Mul (Var 0 sort.Int) (Var 1 sort.Int)))) ∷ []); locals = []; items = ([]) }) }) ∷ []) }) (record { is_void = false; name = name_f; params = (name_p ∷ name_q ∷ []); vars = ((name_a, sort.Int) ∷ (name_b, sort.Int) ∷ []); pre = (record { opened = []; facts = ((Rel relation.Le (Number (pos 1)) (Var 0 sort.Int)) ∷ (Rel relation.Le (Var 0 sort.Int) (Number (pos 9))) ∷ (Rel relation.Le (Number (pos 1)) (Var 1 sort.Int)) ∷ (Rel relation.Le (Var 1 sort.Int) (Number (pos 9))) ∷ []); locals = ((name_p, (Of unary.Vi (Var 0 sort.Int))) ∷ (name_q, (Of unary.Vi (Var 1 sort.Int))) ∷ []); items = ([]) }); post = (record { opened = []; facts = ((Rel relation.Eq (Var 2 sort.Val) (Of unary.Vi (Of2 binary.Mul (Var 0 sort.Int) (Var 1 sort.Int)))) ∷ []); locals = []; items = ([]) }) }) (record { temps = (name_p ∷ name_q ∷ name_t ∷ []); body = (c.Then (c.Set 2 (c.Binary two.Mul kind.Unsigned (c.Temp 0) (c.Temp 1))) (c.Then (c.Return (Some (c.Temp 2))) c.End)) }) (s.Then 1 (s.Set ([]) ([])) s.NoBlock (s.Then 2 (s.Return ([]) ([]) ([])) s.NoBlock s.End)) ≡ Accepted
unfolding computing
conditions_110 = refl

conditions_111 : body_verdict (record { predicates = ([]); specs = ((record { is_void = false; name = name_f; params = (name_p ∷ name_q ∷ []); vars = ((name_a, sort.Int) ∷ (name_b, sort.Int) ∷ []); pre = (record { opened = []; facts = ((Rel relation.Le (Number (pos 1)) (Var 0 sort.Int)) ∷ (Rel relation.Le (Var 0 sort.Int) (Number (pos 9))) ∷ (Rel relation.Le (Number (pos 1)) (Var 1 sort.Int)) ∷ (Rel relation.Le (Var 1 sort.Int) (Number (pos 9))) ∷ []); locals = ((name_p, (Of unary.Vi (Var 0 sort.Int))) ∷ (name_q, (Of unary.Vi (Var 1 sort.Int))) ∷ []); items = ([]) }); post = (record { opened = []; facts = ((Rel relation.Eq (Var 2 sort.Val) (Of unary.Vi (Of2 binary.Quot (Var 0 sort.Int) (Var 1 sort.Int)))) ∷ []); locals = []; items = ([]) }) }) ∷ []) }) (record { is_void = false; name = name_f; params = (name_p ∷ name_q ∷ []); vars = ((name_a, sort.Int) ∷ (name_b, sort.Int) ∷ []); pre = (record { opened = []; facts = ((Rel relation.Le (Number (pos 1)) (Var 0 sort.Int)) ∷ (Rel relation.Le (Var 0 sort.Int) (Number (pos 9))) ∷ (Rel relation.Le (Number (pos 1)) (Var 1 sort.Int)) ∷ (Rel relation.Le (Var 1 sort.Int) (Number (pos 9))) ∷ []); locals = ((name_p, (Of unary.Vi (Var 0 sort.Int))) ∷ (name_q, (Of unary.Vi (Var 1 sort.Int))) ∷ []); items = ([]) }); post = (record { opened = []; facts = ((Rel relation.Eq (Var 2 sort.Val) (Of unary.Vi (Of2 binary.Quot (Var 0 sort.Int) (Var 1 sort.Int)))) ∷ []); locals = []; items = ([]) }) }) (record { temps = (name_p ∷ name_q ∷ name_t ∷ []); body = (c.Then (c.Set 2 (c.Binary two.Div kind.Unsigned (c.Temp 0) (c.Temp 1))) (c.Then (c.Return (Some (c.Temp 2))) c.End)) }) (s.Then 1 (s.Set ([]) ((record { lines = ((line.Comb (((pos 1), 0) ∷ ((pos 1), 4) ∷ [])) ∷ []) }) ∷ (record { lines = ((line.Comb (((pos 1), 1) ∷ ((pos 1), 4) ∷ [])) ∷ []) }) ∷ (record { lines = ((line.Comb (((pos 1), 3) ∷ ((pos 1), 4) ∷ [])) ∷ []) }) ∷ [])) s.NoBlock (s.Then 2 (s.Return ([]) ([]) ([])) s.NoBlock s.End)) ≡ (RefusedAt 1 2 3)
unfolding computing
conditions_111 = refl

conditions_112 : body_verdict (record { predicates = ([]); specs = ((record { is_void = false; name = name_f; params = (name_p ∷ name_q ∷ []); vars = ((name_a, sort.Int) ∷ (name_b, sort.Int) ∷ []); pre = (record { opened = []; facts = ((Rel relation.Le (Number (pos 1)) (Var 0 sort.Int)) ∷ (Rel relation.Le (Var 0 sort.Int) (Number (pos 9))) ∷ (Rel relation.Le (Number (pos 1)) (Var 1 sort.Int)) ∷ (Rel relation.Le (Var 1 sort.Int) (Number (pos 9))) ∷ []); locals = ((name_p, (Of unary.Vi (Var 0 sort.Int))) ∷ (name_q, (Of unary.Vi (Var 1 sort.Int))) ∷ []); items = ([]) }); post = (record { opened = []; facts = ((Rel relation.Eq (Var 2 sort.Val) (Of unary.Vi (Of2 binary.Rem (Var 0 sort.Int) (Var 1 sort.Int)))) ∷ []); locals = []; items = ([]) }) }) ∷ []) }) (record { is_void = false; name = name_f; params = (name_p ∷ name_q ∷ []); vars = ((name_a, sort.Int) ∷ (name_b, sort.Int) ∷ []); pre = (record { opened = []; facts = ((Rel relation.Le (Number (pos 1)) (Var 0 sort.Int)) ∷ (Rel relation.Le (Var 0 sort.Int) (Number (pos 9))) ∷ (Rel relation.Le (Number (pos 1)) (Var 1 sort.Int)) ∷ (Rel relation.Le (Var 1 sort.Int) (Number (pos 9))) ∷ []); locals = ((name_p, (Of unary.Vi (Var 0 sort.Int))) ∷ (name_q, (Of unary.Vi (Var 1 sort.Int))) ∷ []); items = ([]) }); post = (record { opened = []; facts = ((Rel relation.Eq (Var 2 sort.Val) (Of unary.Vi (Of2 binary.Rem (Var 0 sort.Int) (Var 1 sort.Int)))) ∷ []); locals = []; items = ([]) }) }) (record { temps = (name_p ∷ name_q ∷ name_t ∷ []); body = (c.Then (c.Set 2 (c.Binary two.Rem kind.Unsigned (c.Temp 0) (c.Temp 1))) (c.Then (c.Return (Some (c.Temp 2))) c.End)) }) (s.Then 1 (s.Set ([]) ((record { lines = ((line.Comb (((pos 1), 0) ∷ ((pos 1), 4) ∷ [])) ∷ []) }) ∷ (record { lines = ((line.Comb (((pos 1), 1) ∷ ((pos 1), 4) ∷ [])) ∷ []) }) ∷ (record { lines = ((line.Comb (((pos 1), 3) ∷ ((pos 1), 4) ∷ [])) ∷ []) }) ∷ [])) s.NoBlock (s.Then 2 (s.Return ([]) ([]) ([])) s.NoBlock s.End)) ≡ (RefusedAt 1 2 3)
unfolding computing
conditions_112 = refl

conditions_113 : body_verdict (record { predicates = ([]); specs = ((record { is_void = false; name = name_f; params = (name_p ∷ name_q ∷ []); vars = ((name_a, sort.Int) ∷ (name_b, sort.Int) ∷ []); pre = (record { opened = []; facts = ((Rel relation.Le (Number (pos 1)) (Var 0 sort.Int)) ∷ (Rel relation.Le (Var 0 sort.Int) (Number (pos 9))) ∷ (Rel relation.Le (Number (pos 1)) (Var 1 sort.Int)) ∷ (Rel relation.Le (Var 1 sort.Int) (Number (pos 9))) ∷ []); locals = ((name_p, (Of unary.Vi (Var 0 sort.Int))) ∷ (name_q, (Of unary.Vi (Var 1 sort.Int))) ∷ []); items = ([]) }); post = (record { opened = []; facts = ((Rel relation.Eq (Var 2 sort.Val) (Of unary.Vi (Of2 binary.Quot (Var 1 sort.Int) (Var 0 sort.Int)))) ∷ []); locals = []; items = ([]) }) }) ∷ []) }) (record { is_void = false; name = name_f; params = (name_p ∷ name_q ∷ []); vars = ((name_a, sort.Int) ∷ (name_b, sort.Int) ∷ []); pre = (record { opened = []; facts = ((Rel relation.Le (Number (pos 1)) (Var 0 sort.Int)) ∷ (Rel relation.Le (Var 0 sort.Int) (Number (pos 9))) ∷ (Rel relation.Le (Number (pos 1)) (Var 1 sort.Int)) ∷ (Rel relation.Le (Var 1 sort.Int) (Number (pos 9))) ∷ []); locals = ((name_p, (Of unary.Vi (Var 0 sort.Int))) ∷ (name_q, (Of unary.Vi (Var 1 sort.Int))) ∷ []); items = ([]) }); post = (record { opened = []; facts = ((Rel relation.Eq (Var 2 sort.Val) (Of unary.Vi (Of2 binary.Quot (Var 1 sort.Int) (Var 0 sort.Int)))) ∷ []); locals = []; items = ([]) }) }) (record { temps = (name_p ∷ name_q ∷ name_t ∷ []); body = (c.Then (c.Set 2 (c.Binary two.Div kind.Unsigned (c.Temp 0) (c.Temp 1))) (c.Then (c.Return (Some (c.Temp 2))) c.End)) }) (s.Then 1 (s.Set ([]) ((record { lines = ((line.Comb (((pos 1), 0) ∷ ((pos 1), 4) ∷ [])) ∷ []) }) ∷ (record { lines = ((line.Comb (((pos 1), 1) ∷ ((pos 1), 4) ∷ [])) ∷ []) }) ∷ (record { lines = ((line.Comb (((pos 1), 3) ∷ ((pos 1), 4) ∷ [])) ∷ []) }) ∷ [])) s.NoBlock (s.Then 2 (s.Return ([]) ([]) ([])) s.NoBlock s.End)) ≡ (RefusedAt 1 2 3)
unfolding computing
conditions_113 = refl

conditions_114 : body_verdict (record { predicates = ([]); specs = ((record { is_void = false; name = name_f; params = (name_p ∷ name_q ∷ []); vars = ((name_a, sort.Int) ∷ (name_b, sort.Int) ∷ []); pre = (record { opened = []; facts = ((Rel relation.Le (Number (pos 1)) (Var 0 sort.Int)) ∷ (Rel relation.Le (Var 0 sort.Int) (Number (pos 9))) ∷ (Rel relation.Le (Number (pos 1)) (Var 1 sort.Int)) ∷ (Rel relation.Le (Var 1 sort.Int) (Number (pos 9))) ∷ []); locals = ((name_p, (Of unary.Vi (Var 0 sort.Int))) ∷ (name_q, (Of unary.Vi (Var 1 sort.Int))) ∷ []); items = ([]) }); post = (record { opened = []; facts = ((Rel relation.Eq (Var 2 sort.Val) (Of unary.Vi (Of2 binary.Quot (Var 0 sort.Int) (Var 1 sort.Int)))) ∷ []); locals = []; items = ([]) }) }) ∷ []) }) (record { is_void = false; name = name_f; params = (name_p ∷ name_q ∷ []); vars = ((name_a, sort.Int) ∷ (name_b, sort.Int) ∷ []); pre = (record { opened = []; facts = ((Rel relation.Le (Number (pos 1)) (Var 0 sort.Int)) ∷ (Rel relation.Le (Var 0 sort.Int) (Number (pos 9))) ∷ (Rel relation.Le (Number (pos 1)) (Var 1 sort.Int)) ∷ (Rel relation.Le (Var 1 sort.Int) (Number (pos 9))) ∷ []); locals = ((name_p, (Of unary.Vi (Var 0 sort.Int))) ∷ (name_q, (Of unary.Vi (Var 1 sort.Int))) ∷ []); items = ([]) }); post = (record { opened = []; facts = ((Rel relation.Eq (Var 2 sort.Val) (Of unary.Vi (Of2 binary.Quot (Var 0 sort.Int) (Var 1 sort.Int)))) ∷ []); locals = []; items = ([]) }) }) (record { temps = (name_p ∷ name_q ∷ name_t ∷ []); body = (c.Then (c.Set 2 (c.Binary two.Div kind.Unsigned (c.Temp 0) (c.Temp 1))) (c.Then (c.Return (Some (c.Temp 2))) c.End)) }) (s.Then 1 (s.Set ([]) ((record { lines = ((line.Comb (((pos 1), 0) ∷ ((pos 1), 4) ∷ [])) ∷ []) }) ∷ (record { lines = ((line.Comb (((pos 1), 1) ∷ ((pos 1), 4) ∷ [])) ∷ []) }) ∷ (record { lines = ((line.Comb (((pos 1), 2) ∷ ((pos 1), 4) ∷ [])) ∷ []) }) ∷ (record { lines = ((line.Comb (((pos 1), 3) ∷ ((pos 1), 4) ∷ [])) ∷ []) }) ∷ [])) s.NoBlock (s.Then 2 (s.Return ([]) ([]) ([])) s.NoBlock s.End)) ≡ Accepted
unfolding computing
conditions_114 = refl

conditions_115 : body_verdict (record { predicates = ([]); specs = ((record { is_void = false; name = name_f; params = (name_p ∷ name_q ∷ []); vars = ((name_a, sort.Int) ∷ (name_b, sort.Int) ∷ []); pre = (record { opened = []; facts = ((Rel relation.Le (Number (pos 1)) (Var 0 sort.Int)) ∷ (Rel relation.Le (Var 0 sort.Int) (Number (pos 9))) ∷ (Rel relation.Le (Number (pos 1)) (Var 1 sort.Int)) ∷ (Rel relation.Le (Var 1 sort.Int) (Number (pos 9))) ∷ []); locals = ((name_p, (Of unary.Vi (Var 0 sort.Int))) ∷ (name_q, (Of unary.Vi (Var 1 sort.Int))) ∷ []); items = ([]) }); post = (record { opened = []; facts = ((Rel relation.Eq (Var 2 sort.Val) (Of unary.Vi (Of2 binary.Rem (Var 0 sort.Int) (Var 1 sort.Int)))) ∷ []); locals = []; items = ([]) }) }) ∷ []) }) (record { is_void = false; name = name_f; params = (name_p ∷ name_q ∷ []); vars = ((name_a, sort.Int) ∷ (name_b, sort.Int) ∷ []); pre = (record { opened = []; facts = ((Rel relation.Le (Number (pos 1)) (Var 0 sort.Int)) ∷ (Rel relation.Le (Var 0 sort.Int) (Number (pos 9))) ∷ (Rel relation.Le (Number (pos 1)) (Var 1 sort.Int)) ∷ (Rel relation.Le (Var 1 sort.Int) (Number (pos 9))) ∷ []); locals = ((name_p, (Of unary.Vi (Var 0 sort.Int))) ∷ (name_q, (Of unary.Vi (Var 1 sort.Int))) ∷ []); items = ([]) }); post = (record { opened = []; facts = ((Rel relation.Eq (Var 2 sort.Val) (Of unary.Vi (Of2 binary.Rem (Var 0 sort.Int) (Var 1 sort.Int)))) ∷ []); locals = []; items = ([]) }) }) (record { temps = (name_p ∷ name_q ∷ name_t ∷ []); body = (c.Then (c.Set 2 (c.Binary two.Rem kind.Unsigned (c.Temp 0) (c.Temp 1))) (c.Then (c.Return (Some (c.Temp 2))) c.End)) }) (s.Then 1 (s.Set ([]) ((record { lines = ((line.Comb (((pos 1), 0) ∷ ((pos 1), 4) ∷ [])) ∷ []) }) ∷ (record { lines = ((line.Comb (((pos 1), 1) ∷ ((pos 1), 4) ∷ [])) ∷ []) }) ∷ (record { lines = ((line.Comb (((pos 1), 2) ∷ ((pos 1), 4) ∷ [])) ∷ []) }) ∷ (record { lines = ((line.Comb (((pos 1), 3) ∷ ((pos 1), 4) ∷ [])) ∷ []) }) ∷ [])) s.NoBlock (s.Then 2 (s.Return ([]) ([]) ([])) s.NoBlock s.End)) ≡ Accepted
unfolding computing
conditions_115 = refl

conditions_116 : body_verdict (record { predicates = ([]); specs = ((record { is_void = false; name = name_f; params = (name_p ∷ []); vars = ((name_v, sort.Val) ∷ []); pre = (record { opened = []; facts = ([]); locals = ((name_p, (Var 0 sort.Val)) ∷ []); items = ((Data (Number (pos 64)) (Var 0 sort.Val) (Of2 binary.Cons (Of unary.Vi (Number (pos 4))) Nil)) ∷ []) }); post = (record { opened = []; facts = ([]); locals = []; items = ((Data (Number (pos 64)) (Var 0 sort.Val) (Of2 binary.Cons (Of unary.Vi (Number (pos 4))) Nil)) ∷ []) }) }) ∷ []) }) (record { is_void = false; name = name_f; params = (name_p ∷ []); vars = ((name_v, sort.Val) ∷ []); pre = (record { opened = []; facts = ([]); locals = ((name_p, (Var 0 sort.Val)) ∷ []); items = ((Data (Number (pos 64)) (Var 0 sort.Val) (Of2 binary.Cons (Of unary.Vi (Number (pos 4))) Nil)) ∷ []) }); post = (record { opened = []; facts = ([]); locals = []; items = ((Data (Number (pos 64)) (Var 0 sort.Val) (Of2 binary.Cons (Of unary.Vi (Number (pos 4))) Nil)) ∷ []) }) }) (record { temps = (name_p ∷ name_t ∷ []); body = (c.Then (c.Set 1 (c.Const 0)) (c.Then (c.Loop (c.Then (c.If (c.Nonzero kind.Signed (c.Binary two.Eq kind.Signed (c.Temp 1) (c.Const 0))) (c.Then c.Continue c.End) (c.Then c.Break c.End)) c.End)) (c.Then (c.Return (Some (c.Const 0))) c.End))) }) (s.Then 1 (s.Set ([]) ([])) s.NoBlock (s.Then 2 (s.While (record { opened = []; facts = ([]); locals = ((name_p, (Named name_v)) ∷ (name_t, (Of unary.Vi (Number (pos 0)))) ∷ []); items = ((Data (Number (pos 64)) (Named name_v) (Of2 binary.Cons (Of unary.Vi (Number (pos 4))) Nil)) ∷ []) }) (record { opened = []; facts = ([]); locals = ((name_p, (Named name_v)) ∷ []); items = ((Data (Number (pos 64)) (Named name_v) (Of2 binary.Cons (Of unary.Vi (Number (pos 4))) Nil)) ∷ []) }) ([]) ([]) ([])) (s.WithBlock (s.Then 3 (s.Meet ([]) ([])) s.NoBlock s.End) (s.WithBlock (s.Then 4 (s.If ([]) ([]) ([]) ([])) (s.WithBlock (s.Then 5 (s.Continue ([]) ([])) s.NoBlock s.End) (s.WithBlock (s.Then 6 (s.Break ([]) ([])) s.NoBlock s.End) s.NoBlock)) s.End) s.NoBlock)) (s.Then 7 (s.Return ([]) ([]) ([])) s.NoBlock s.End))) ≡ Accepted
unfolding computing
conditions_116 = refl

conditions_117 : body_verdict (record { predicates = ([]); specs = ((record { is_void = false; name = name_f; params = (name_p ∷ []); vars = ((name_v, sort.Val) ∷ []); pre = (record { opened = []; facts = ([]); locals = ((name_p, (Var 0 sort.Val)) ∷ []); items = ((Data (Number (pos 64)) (Var 0 sort.Val) (Of2 binary.Cons (Of unary.Vi (Number (pos 4))) Nil)) ∷ []) }); post = (record { opened = []; facts = ([]); locals = []; items = ((Data (Number (pos 64)) (Var 0 sort.Val) (Of2 binary.Cons (Of unary.Vi (Number (pos 4))) Nil)) ∷ []) }) }) ∷ []) }) (record { is_void = false; name = name_f; params = (name_p ∷ []); vars = ((name_v, sort.Val) ∷ []); pre = (record { opened = []; facts = ([]); locals = ((name_p, (Var 0 sort.Val)) ∷ []); items = ((Data (Number (pos 64)) (Var 0 sort.Val) (Of2 binary.Cons (Of unary.Vi (Number (pos 4))) Nil)) ∷ []) }); post = (record { opened = []; facts = ([]); locals = []; items = ((Data (Number (pos 64)) (Var 0 sort.Val) (Of2 binary.Cons (Of unary.Vi (Number (pos 4))) Nil)) ∷ []) }) }) (record { temps = (name_p ∷ name_t ∷ []); body = (c.Then (c.Set 1 (c.Const 0)) (c.Then (c.Loop (c.Then (c.If (c.Nonzero kind.Signed (c.Binary two.Eq kind.Signed (c.Temp 1) (c.Const 0))) (c.Then c.Continue c.End) (c.Then c.Break c.End)) c.End)) (c.Then (c.Return (Some (c.Const 0))) c.End))) }) (s.Then 1 (s.Set ([]) ([])) s.NoBlock (s.Then 2 (s.While (record { opened = []; facts = ([]); locals = ((name_p, (Named name_v)) ∷ (name_t, (Of unary.Vi (Number (pos 0)))) ∷ []); items = ((Data (Number (pos 64)) (Named name_v) (Of2 binary.Cons (Of unary.Vi (Number (pos 4))) Nil)) ∷ []) }) (record { opened = []; facts = ([]); locals = ((name_p, (Named name_v)) ∷ []); items = ((Data (Number (pos 64)) (Named name_v) (Of2 binary.Cons (Of unary.Vi (Number (pos 4))) Nil)) ∷ []) }) ([]) ([]) ([])) (s.WithBlock (s.Then 3 (s.Meet ([]) ([])) s.NoBlock s.End) (s.WithBlock (s.Then 4 (s.If ([]) ([]) ([]) ([])) (s.WithBlock (s.Then 5 (s.Forget (forgotten.Local name_t)) s.NoBlock (s.Then 6 (s.Continue ([]) ([])) s.NoBlock s.End)) (s.WithBlock (s.Then 7 (s.Break ([]) ([])) s.NoBlock s.End) s.NoBlock)) s.End) s.NoBlock)) (s.Then 8 (s.Return ([]) ([]) ([])) s.NoBlock s.End))) ≡ (RefusedAt 6 8 4)
unfolding computing
conditions_117 = refl

conditions_118 : body_verdict (record { predicates = ([]); specs = ((record { is_void = false; name = name_f; params = (name_p ∷ []); vars = ((name_v, sort.Val) ∷ []); pre = (record { opened = []; facts = ([]); locals = ((name_p, (Var 0 sort.Val)) ∷ []); items = ((Data (Number (pos 64)) (Var 0 sort.Val) (Of2 binary.Cons (Of unary.Vi (Number (pos 4))) Nil)) ∷ []) }); post = (record { opened = []; facts = ([]); locals = []; items = ((Data (Number (pos 64)) (Var 0 sort.Val) (Of2 binary.Cons (Of unary.Vi (Number (pos 4))) Nil)) ∷ []) }) }) ∷ []) }) (record { is_void = false; name = name_f; params = (name_p ∷ []); vars = ((name_v, sort.Val) ∷ []); pre = (record { opened = []; facts = ([]); locals = ((name_p, (Var 0 sort.Val)) ∷ []); items = ((Data (Number (pos 64)) (Var 0 sort.Val) (Of2 binary.Cons (Of unary.Vi (Number (pos 4))) Nil)) ∷ []) }); post = (record { opened = []; facts = ([]); locals = []; items = ((Data (Number (pos 64)) (Var 0 sort.Val) (Of2 binary.Cons (Of unary.Vi (Number (pos 4))) Nil)) ∷ []) }) }) (record { temps = (name_p ∷ name_t ∷ []); body = (c.Then (c.Set 1 (c.Const 0)) (c.Then (c.Loop (c.Then (c.If (c.Nonzero kind.Signed (c.Binary two.Eq kind.Signed (c.Temp 1) (c.Const 0))) (c.Then c.Continue c.End) (c.Then c.Break c.End)) c.End)) (c.Then (c.Return (Some (c.Const 0))) c.End))) }) (s.Then 1 (s.Set ([]) ([])) s.NoBlock (s.Then 2 (s.While (record { opened = []; facts = ([]); locals = ((name_p, (Named name_v)) ∷ (name_t, (Of unary.Vi (Number (pos 0)))) ∷ []); items = ((Data (Number (pos 64)) (Named name_v) (Of2 binary.Cons (Of unary.Vi (Number (pos 4))) Nil)) ∷ []) }) (record { opened = []; facts = ([]); locals = ((name_p, (Named name_v)) ∷ []); items = ((Data (Number (pos 64)) (Named name_v) (Of2 binary.Cons (Of unary.Vi (Number (pos 4))) Nil)) ∷ []) }) ([]) ([]) ([])) (s.WithBlock (s.Then 3 (s.Meet ([]) ([])) s.NoBlock s.End) (s.WithBlock (s.Then 4 (s.If ([]) ([]) ([]) ([])) (s.WithBlock (s.Then 5 (s.Continue ((Named name_v) ∷ []) ([])) s.NoBlock s.End) (s.WithBlock (s.Then 6 (s.Break ([]) ([])) s.NoBlock s.End) s.NoBlock)) s.End) s.NoBlock)) (s.Then 7 (s.Return ([]) ([]) ([])) s.NoBlock s.End))) ≡ (RefusedAt 5 8 1)
unfolding computing
conditions_118 = refl

conditions_119 : body_verdict (record { predicates = ([]); specs = ((record { is_void = false; name = name_f; params = (name_p ∷ []); vars = ((name_v, sort.Val) ∷ []); pre = (record { opened = []; facts = ([]); locals = ((name_p, (Var 0 sort.Val)) ∷ []); items = ((Data (Number (pos 64)) (Var 0 sort.Val) (Of2 binary.Cons (Of unary.Vi (Number (pos 4))) Nil)) ∷ []) }); post = (record { opened = []; facts = ([]); locals = []; items = ((Data (Number (pos 64)) (Var 0 sort.Val) (Of2 binary.Cons (Of unary.Vi (Number (pos 4))) Nil)) ∷ []) }) }) ∷ []) }) (record { is_void = false; name = name_f; params = (name_p ∷ []); vars = ((name_v, sort.Val) ∷ []); pre = (record { opened = []; facts = ([]); locals = ((name_p, (Var 0 sort.Val)) ∷ []); items = ((Data (Number (pos 64)) (Var 0 sort.Val) (Of2 binary.Cons (Of unary.Vi (Number (pos 4))) Nil)) ∷ []) }); post = (record { opened = []; facts = ([]); locals = []; items = ((Data (Number (pos 64)) (Var 0 sort.Val) (Of2 binary.Cons (Of unary.Vi (Number (pos 4))) Nil)) ∷ []) }) }) (record { temps = (name_p ∷ name_t ∷ []); body = (c.Then (c.Set 1 (c.Const 0)) (c.Then (c.Loop (c.Then (c.If (c.Nonzero kind.Signed (c.Binary two.Eq kind.Signed (c.Temp 1) (c.Const 0))) (c.Then c.Continue c.End) (c.Then c.Break c.End)) c.End)) (c.Then (c.Return (Some (c.Const 0))) c.End))) }) (s.Then 1 (s.Set ([]) ([])) s.NoBlock (s.Then 2 (s.While (record { opened = []; facts = ([]); locals = ((name_p, (Named name_v)) ∷ (name_t, (Of unary.Vi (Number (pos 0)))) ∷ []); items = ((Data (Number (pos 64)) (Named name_v) (Of2 binary.Cons (Of unary.Vi (Number (pos 4))) Nil)) ∷ []) }) (record { opened = []; facts = ([]); locals = ((name_p, (Named name_v)) ∷ []); items = ((Data (Number (pos 64)) (Named name_v) (Of2 binary.Cons (Of unary.Vi (Number (pos 4))) Nil)) ∷ []) }) ([]) ([]) ([])) (s.WithBlock (s.Then 3 (s.Meet ([]) ([])) s.NoBlock s.End) (s.WithBlock (s.Then 4 (s.If ([]) ([]) ([]) ([])) (s.WithBlock (s.Then 5 (s.Continue ([]) ((record { lines = ((line.Comb (((pos 1), 0) ∷ [])) ∷ []) }) ∷ [])) s.NoBlock s.End) (s.WithBlock (s.Then 6 (s.Break ([]) ([])) s.NoBlock s.End) s.NoBlock)) s.End) s.NoBlock)) (s.Then 7 (s.Return ([]) ([]) ([])) s.NoBlock s.End))) ≡ (RefusedAt 5 8 3)
unfolding computing
conditions_119 = refl

conditions_120 : body_verdict (record { predicates = ([]); specs = ((record { is_void = false; name = name_f; params = (name_p ∷ []); vars = ((name_v, sort.Val) ∷ []); pre = (record { opened = []; facts = ([]); locals = ((name_p, (Var 0 sort.Val)) ∷ []); items = ((Data (Number (pos 64)) (Var 0 sort.Val) (Of2 binary.Cons (Of unary.Vi (Number (pos 4))) Nil)) ∷ []) }); post = (record { opened = []; facts = ([]); locals = []; items = ((Data (Number (pos 64)) (Var 0 sort.Val) (Of2 binary.Cons (Of unary.Vi (Number (pos 4))) Nil)) ∷ []) }) }) ∷ []) }) (record { is_void = false; name = name_f; params = (name_p ∷ []); vars = ((name_v, sort.Val) ∷ []); pre = (record { opened = []; facts = ([]); locals = ((name_p, (Var 0 sort.Val)) ∷ []); items = ((Data (Number (pos 64)) (Var 0 sort.Val) (Of2 binary.Cons (Of unary.Vi (Number (pos 4))) Nil)) ∷ []) }); post = (record { opened = []; facts = ([]); locals = []; items = ((Data (Number (pos 64)) (Var 0 sort.Val) (Of2 binary.Cons (Of unary.Vi (Number (pos 4))) Nil)) ∷ []) }) }) (record { temps = (name_p ∷ name_t ∷ []); body = (c.Then (c.Set 1 (c.Const 0)) (c.Then (c.Loop (c.Then (c.If (c.Nonzero kind.Signed (c.Binary two.Eq kind.Signed (c.Temp 1) (c.Const 0))) (c.Then c.Continue c.End) (c.Then c.Break c.End)) c.End)) (c.Then (c.Return (Some (c.Const 0))) c.End))) }) (s.Then 1 (s.Set ([]) ([])) s.NoBlock (s.Then 2 (s.While (record { opened = []; facts = ([]); locals = ((name_p, (Named name_v)) ∷ (name_t, (Of unary.Vi (Number (pos 0)))) ∷ []); items = ((Data (Number (pos 64)) (Named name_v) (Of2 binary.Cons (Of unary.Vi (Number (pos 4))) Nil)) ∷ []) }) (record { opened = []; facts = ([]); locals = ((name_p, (Named name_v)) ∷ []); items = ((Data (Number (pos 64)) (Named name_v) (Of2 binary.Cons (Of unary.Vi (Number (pos 4))) Nil)) ∷ []) }) ([]) ([]) ([])) (s.WithBlock (s.Then 3 (s.Meet ([]) ([])) s.NoBlock s.End) (s.WithBlock (s.Then 4 (s.If ([]) ([]) ([]) ([])) (s.WithBlock (s.Then 5 (s.Share 0 (Number (pos 32)) ([])) s.NoBlock (s.Then 6 (s.Continue ([]) ([])) s.NoBlock s.End)) (s.WithBlock (s.Then 7 (s.Break ([]) ([])) s.NoBlock s.End) s.NoBlock)) s.End) s.NoBlock)) (s.Then 8 (s.Return ([]) ([]) ([])) s.NoBlock s.End))) ≡ (RefusedAt 6 8 5)
unfolding computing
conditions_120 = refl

conditions_121 : body_verdict (record { predicates = ([]); specs = ((record { is_void = false; name = name_f; params = (name_p ∷ []); vars = ((name_v, sort.Val) ∷ []); pre = (record { opened = []; facts = ([]); locals = ((name_p, (Var 0 sort.Val)) ∷ []); items = ((Data (Number (pos 64)) (Var 0 sort.Val) (Of2 binary.Cons (Of unary.Vi (Number (pos 4))) Nil)) ∷ []) }); post = (record { opened = []; facts = ([]); locals = []; items = ((Data (Number (pos 64)) (Var 0 sort.Val) (Of2 binary.Cons (Of unary.Vi (Number (pos 4))) Nil)) ∷ []) }) }) ∷ []) }) (record { is_void = false; name = name_f; params = (name_p ∷ []); vars = ((name_v, sort.Val) ∷ []); pre = (record { opened = []; facts = ([]); locals = ((name_p, (Var 0 sort.Val)) ∷ []); items = ((Data (Number (pos 64)) (Var 0 sort.Val) (Of2 binary.Cons (Of unary.Vi (Number (pos 4))) Nil)) ∷ []) }); post = (record { opened = []; facts = ([]); locals = []; items = ((Data (Number (pos 64)) (Var 0 sort.Val) (Of2 binary.Cons (Of unary.Vi (Number (pos 4))) Nil)) ∷ []) }) }) (record { temps = (name_p ∷ name_t ∷ []); body = (c.Then (c.Set 1 (c.Const 0)) (c.Then (c.Loop (c.Then (c.If (c.Nonzero kind.Signed (c.Binary two.Eq kind.Signed (c.Temp 1) (c.Const 0))) (c.Then c.Continue c.End) (c.Then c.Break c.End)) c.End)) (c.Then (c.Return (Some (c.Const 0))) c.End))) }) (s.Then 1 (s.Set ([]) ([])) s.NoBlock (s.Then 2 (s.While (record { opened = []; facts = ([]); locals = ((name_p, (Named name_v)) ∷ (name_t, (Of unary.Vi (Number (pos 0)))) ∷ []); items = ((Data (Number (pos 64)) (Named name_v) (Of2 binary.Cons (Of unary.Vi (Number (pos 4))) Nil)) ∷ []) }) (record { opened = []; facts = ([]); locals = ((name_p, (Named name_v)) ∷ []); items = ((Data (Number (pos 64)) (Named name_v) (Of2 binary.Cons (Of unary.Vi (Number (pos 4))) Nil)) ∷ []) }) ([]) ([]) ([])) (s.WithBlock (s.Then 3 (s.Meet ([]) ([])) s.NoBlock s.End) (s.WithBlock (s.Then 4 (s.If ([]) ([]) ([]) ([])) (s.WithBlock (s.Then 5 (s.Break ([]) ([])) s.NoBlock s.End) (s.WithBlock (s.Then 6 (s.Break ([]) ([])) s.NoBlock s.End) s.NoBlock)) s.End) s.NoBlock)) (s.Then 7 (s.Return ([]) ([]) ([])) s.NoBlock s.End))) ≡ (RefusedAt 5 7 1)
unfolding computing
conditions_121 = refl

conditions_122 : body_verdict (record { predicates = ([]); specs = ((record { is_void = false; name = name_f; params = (name_p ∷ []); vars = ((name_v, sort.Val) ∷ []); pre = (record { opened = []; facts = ([]); locals = ((name_p, (Var 0 sort.Val)) ∷ []); items = ((Data (Number (pos 64)) (Var 0 sort.Val) (Of2 binary.Cons (Of unary.Vi (Number (pos 4))) Nil)) ∷ []) }); post = (record { opened = []; facts = ([]); locals = []; items = ((Data (Number (pos 64)) (Var 0 sort.Val) (Of2 binary.Cons (Of unary.Vi (Number (pos 4))) Nil)) ∷ []) }) }) ∷ []) }) (record { is_void = false; name = name_f; params = (name_p ∷ []); vars = ((name_v, sort.Val) ∷ []); pre = (record { opened = []; facts = ([]); locals = ((name_p, (Var 0 sort.Val)) ∷ []); items = ((Data (Number (pos 64)) (Var 0 sort.Val) (Of2 binary.Cons (Of unary.Vi (Number (pos 4))) Nil)) ∷ []) }); post = (record { opened = []; facts = ([]); locals = []; items = ((Data (Number (pos 64)) (Var 0 sort.Val) (Of2 binary.Cons (Of unary.Vi (Number (pos 4))) Nil)) ∷ []) }) }) (record { temps = (name_p ∷ name_t ∷ []); body = (c.Then (c.Set 1 (c.Const 0)) (c.Then (c.Loop (c.Then (c.If (c.Nonzero kind.Signed (c.Binary two.Eq kind.Signed (c.Temp 1) (c.Const 0))) (c.Then c.Continue c.End) (c.Then c.Break c.End)) c.End)) (c.Then (c.Return (Some (c.Const 0))) c.End))) }) (s.Then 1 (s.Set ([]) ([])) s.NoBlock (s.Then 2 (s.While (record { opened = []; facts = ([]); locals = ((name_p, (Named name_v)) ∷ (name_t, (Of unary.Vi (Number (pos 0)))) ∷ []); items = ((Data (Number (pos 64)) (Named name_v) (Of2 binary.Cons (Of unary.Vi (Number (pos 4))) Nil)) ∷ []) }) (record { opened = []; facts = ([]); locals = ((name_p, (Named name_v)) ∷ []); items = ((Data (Number (pos 64)) (Named name_v) (Of2 binary.Cons (Of unary.Vi (Number (pos 4))) Nil)) ∷ []) }) ([]) ([]) ([])) (s.WithBlock (s.Then 3 (s.Meet ([]) ([])) s.NoBlock s.End) (s.WithBlock (s.Then 4 (s.If ([]) ([]) ([]) ([])) (s.WithBlock (s.Then 5 (s.Fall ([]) ([])) s.NoBlock s.End) (s.WithBlock (s.Then 6 (s.Break ([]) ([])) s.NoBlock s.End) s.NoBlock)) s.End) s.NoBlock)) (s.Then 7 (s.Return ([]) ([]) ([])) s.NoBlock s.End))) ≡ (RefusedAt 5 10 1)
unfolding computing
conditions_122 = refl

conditions_123 : body_verdict (record { predicates = ([]); specs = ((record { is_void = false; name = name_f; params = (name_p ∷ []); vars = ((name_v, sort.Val) ∷ []); pre = (record { opened = []; facts = ([]); locals = ((name_p, (Var 0 sort.Val)) ∷ []); items = ((Data (Number (pos 64)) (Var 0 sort.Val) (Of2 binary.Cons (Of unary.Vi (Number (pos 4))) Nil)) ∷ []) }); post = (record { opened = []; facts = ([]); locals = []; items = ((Data (Number (pos 64)) (Var 0 sort.Val) (Of2 binary.Cons (Of unary.Vi (Number (pos 4))) Nil)) ∷ []) }) }) ∷ []) }) (record { is_void = false; name = name_f; params = (name_p ∷ []); vars = ((name_v, sort.Val) ∷ []); pre = (record { opened = []; facts = ([]); locals = ((name_p, (Var 0 sort.Val)) ∷ []); items = ((Data (Number (pos 64)) (Var 0 sort.Val) (Of2 binary.Cons (Of unary.Vi (Number (pos 4))) Nil)) ∷ []) }); post = (record { opened = []; facts = ([]); locals = []; items = ((Data (Number (pos 64)) (Var 0 sort.Val) (Of2 binary.Cons (Of unary.Vi (Number (pos 4))) Nil)) ∷ []) }) }) (record { temps = (name_p ∷ name_t ∷ []); body = (c.Then (c.Set 1 (c.Const 0)) (c.Then (c.Loop (c.Then (c.If (c.Nonzero kind.Signed (c.Binary two.Eq kind.Signed (c.Temp 1) (c.Const 0))) (c.Then c.Continue c.End) (c.Then c.Break c.End)) c.End)) (c.Then (c.Return (Some (c.Const 0))) c.End))) }) (s.Then 1 (s.Set ([]) ([])) s.NoBlock (s.Then 2 (s.While (record { opened = []; facts = ([]); locals = ((name_p, (Named name_v)) ∷ (name_t, (Of unary.Vi (Number (pos 0)))) ∷ []); items = ((Data (Number (pos 64)) (Named name_v) (Of2 binary.Cons (Of unary.Vi (Number (pos 4))) Nil)) ∷ []) }) (record { opened = []; facts = ([]); locals = ((name_p, (Named name_v)) ∷ []); items = ((Data (Number (pos 64)) (Named name_v) (Of2 binary.Cons (Of unary.Vi (Number (pos 4))) Nil)) ∷ []) }) ([]) ([]) ([])) (s.WithBlock (s.Then 3 (s.Meet ([]) ([])) s.NoBlock s.End) (s.WithBlock (s.Then 4 (s.If ([]) ([]) ([]) ([])) (s.WithBlock (s.Then 5 (s.Meet ([]) ([])) s.NoBlock s.End) (s.WithBlock (s.Then 6 (s.Break ([]) ([])) s.NoBlock s.End) s.NoBlock)) s.End) s.NoBlock)) (s.Then 7 (s.Return ([]) ([]) ([])) s.NoBlock s.End))) ≡ (RefusedAt 5 37 1)
unfolding computing
conditions_123 = refl

conditions_124 : body_verdict (record { predicates = ([]); specs = ((record { is_void = false; name = name_f; params = (name_p ∷ []); vars = ((name_v, sort.Val) ∷ []); pre = (record { opened = []; facts = ([]); locals = ((name_p, (Var 0 sort.Val)) ∷ []); items = ((Data (Number (pos 64)) (Var 0 sort.Val) (Of2 binary.Cons (Of unary.Vi (Number (pos 4))) Nil)) ∷ []) }); post = (record { opened = []; facts = ([]); locals = []; items = ((Data (Number (pos 64)) (Var 0 sort.Val) (Of2 binary.Cons (Of unary.Vi (Number (pos 4))) Nil)) ∷ []) }) }) ∷ []) }) (record { is_void = false; name = name_f; params = (name_p ∷ []); vars = ((name_v, sort.Val) ∷ []); pre = (record { opened = []; facts = ([]); locals = ((name_p, (Var 0 sort.Val)) ∷ []); items = ((Data (Number (pos 64)) (Var 0 sort.Val) (Of2 binary.Cons (Of unary.Vi (Number (pos 4))) Nil)) ∷ []) }); post = (record { opened = []; facts = ([]); locals = []; items = ((Data (Number (pos 64)) (Var 0 sort.Val) (Of2 binary.Cons (Of unary.Vi (Number (pos 4))) Nil)) ∷ []) }) }) (record { temps = (name_p ∷ name_t ∷ []); body = (c.Then (c.Set 1 (c.Const 0)) (c.Then (c.Loop (c.Then (c.If (c.Nonzero kind.Signed (c.Binary two.Eq kind.Signed (c.Temp 1) (c.Const 0))) (c.Then c.Break c.End) (c.Then c.Break c.End)) c.End)) (c.Then (c.Return (Some (c.Const 0))) c.End))) }) (s.Then 1 (s.Set ([]) ([])) s.NoBlock (s.Then 2 (s.While (record { opened = []; facts = ([]); locals = ((name_p, (Named name_v)) ∷ (name_t, (Of unary.Vi (Number (pos 0)))) ∷ []); items = ((Data (Number (pos 64)) (Named name_v) (Of2 binary.Cons (Of unary.Vi (Number (pos 4))) Nil)) ∷ []) }) (record { opened = []; facts = ([]); locals = ((name_p, (Named name_v)) ∷ []); items = ((Data (Number (pos 64)) (Named name_v) (Of2 binary.Cons (Of unary.Vi (Number (pos 4))) Nil)) ∷ []) }) ([]) ([]) ([])) (s.WithBlock (s.Then 3 (s.Meet ([]) ([])) s.NoBlock s.End) (s.WithBlock (s.Then 4 (s.If ([]) ([]) ([]) ([])) (s.WithBlock (s.Then 5 (s.Break ([]) ([])) s.NoBlock s.End) (s.WithBlock (s.Then 6 (s.Break ([]) ([])) s.NoBlock s.End) s.NoBlock)) s.End) s.NoBlock)) (s.Then 7 (s.Return ([]) ([]) ([])) s.NoBlock s.End))) ≡ Accepted
unfolding computing
conditions_124 = refl

conditions_125 : body_verdict (record { predicates = ([]); specs = ((record { is_void = false; name = name_f; params = (name_p ∷ []); vars = ((name_v, sort.Val) ∷ []); pre = (record { opened = []; facts = ([]); locals = ((name_p, (Var 0 sort.Val)) ∷ []); items = ((Data (Number (pos 64)) (Var 0 sort.Val) (Of2 binary.Cons (Of unary.Vi (Number (pos 4))) Nil)) ∷ []) }); post = (record { opened = []; facts = ([]); locals = []; items = ((Data (Number (pos 64)) (Var 0 sort.Val) (Of2 binary.Cons (Of unary.Vi (Number (pos 4))) Nil)) ∷ []) }) }) ∷ []) }) (record { is_void = false; name = name_f; params = (name_p ∷ []); vars = ((name_v, sort.Val) ∷ []); pre = (record { opened = []; facts = ([]); locals = ((name_p, (Var 0 sort.Val)) ∷ []); items = ((Data (Number (pos 64)) (Var 0 sort.Val) (Of2 binary.Cons (Of unary.Vi (Number (pos 4))) Nil)) ∷ []) }); post = (record { opened = []; facts = ([]); locals = []; items = ((Data (Number (pos 64)) (Var 0 sort.Val) (Of2 binary.Cons (Of unary.Vi (Number (pos 4))) Nil)) ∷ []) }) }) (record { temps = (name_p ∷ name_t ∷ []); body = (c.Then (c.Set 1 (c.Const 0)) (c.Then (c.Loop (c.Then (c.If (c.Nonzero kind.Signed (c.Binary two.Eq kind.Signed (c.Temp 1) (c.Const 0))) (c.Then c.Break c.End) (c.Then c.Break c.End)) c.End)) (c.Then (c.Return (Some (c.Const 0))) c.End))) }) (s.Then 1 (s.Set ([]) ([])) s.NoBlock (s.Then 2 (s.While (record { opened = []; facts = ([]); locals = ((name_p, (Named name_v)) ∷ (name_t, (Of unary.Vi (Number (pos 0)))) ∷ []); items = ((Data (Number (pos 64)) (Named name_v) (Of2 binary.Cons (Of unary.Vi (Number (pos 4))) Nil)) ∷ []) }) (record { opened = []; facts = ([]); locals = ((name_p, (Named name_v)) ∷ []); items = ((Data (Number (pos 64)) (Named name_v) (Of2 binary.Cons (Of unary.Vi (Number (pos 4))) Nil)) ∷ []) }) ([]) ([]) ([])) (s.WithBlock (s.Then 3 (s.Meet ([]) ([])) s.NoBlock s.End) (s.WithBlock (s.Then 4 (s.If ([]) ([]) ([]) ([])) (s.WithBlock (s.Then 5 (s.Forget (forgotten.Local name_p)) s.NoBlock (s.Then 6 (s.Break ([]) ([])) s.NoBlock s.End)) (s.WithBlock (s.Then 7 (s.Break ([]) ([])) s.NoBlock s.End) s.NoBlock)) s.End) s.NoBlock)) (s.Then 8 (s.Return ([]) ([]) ([])) s.NoBlock s.End))) ≡ (RefusedAt 6 7 4)
unfolding computing
conditions_125 = refl

conditions_126 : body_verdict (record { predicates = ([]); specs = ((record { is_void = false; name = name_f; params = (name_p ∷ []); vars = ((name_v, sort.Val) ∷ []); pre = (record { opened = []; facts = ([]); locals = ((name_p, (Var 0 sort.Val)) ∷ []); items = ((Data (Number (pos 64)) (Var 0 sort.Val) (Of2 binary.Cons (Of unary.Vi (Number (pos 4))) Nil)) ∷ []) }); post = (record { opened = []; facts = ([]); locals = []; items = ((Data (Number (pos 64)) (Var 0 sort.Val) (Of2 binary.Cons (Of unary.Vi (Number (pos 4))) Nil)) ∷ []) }) }) ∷ []) }) (record { is_void = false; name = name_f; params = (name_p ∷ []); vars = ((name_v, sort.Val) ∷ []); pre = (record { opened = []; facts = ([]); locals = ((name_p, (Var 0 sort.Val)) ∷ []); items = ((Data (Number (pos 64)) (Var 0 sort.Val) (Of2 binary.Cons (Of unary.Vi (Number (pos 4))) Nil)) ∷ []) }); post = (record { opened = []; facts = ([]); locals = []; items = ((Data (Number (pos 64)) (Var 0 sort.Val) (Of2 binary.Cons (Of unary.Vi (Number (pos 4))) Nil)) ∷ []) }) }) (record { temps = (name_p ∷ name_t ∷ []); body = (c.Then (c.Set 1 (c.Const 0)) (c.Then (c.Loop (c.Then (c.If (c.Nonzero kind.Signed (c.Binary two.Eq kind.Signed (c.Temp 1) (c.Const 0))) (c.Then c.Break c.End) (c.Then c.Break c.End)) c.End)) (c.Then (c.Return (Some (c.Const 0))) c.End))) }) (s.Then 1 (s.Set ([]) ([])) s.NoBlock (s.Then 2 (s.While (record { opened = []; facts = ([]); locals = ((name_p, (Named name_v)) ∷ (name_t, (Of unary.Vi (Number (pos 0)))) ∷ []); items = ((Data (Number (pos 64)) (Named name_v) (Of2 binary.Cons (Of unary.Vi (Number (pos 4))) Nil)) ∷ []) }) (record { opened = []; facts = ([]); locals = ((name_p, (Named name_v)) ∷ []); items = ((Data (Number (pos 64)) (Named name_v) (Of2 binary.Cons (Of unary.Vi (Number (pos 4))) Nil)) ∷ []) }) ([]) ([]) ([])) (s.WithBlock (s.Then 3 (s.Meet ([]) ([])) s.NoBlock s.End) (s.WithBlock (s.Then 4 (s.If ([]) ([]) ([]) ([])) (s.WithBlock (s.Then 5 (s.Break ((Named name_v) ∷ []) ([])) s.NoBlock s.End) (s.WithBlock (s.Then 6 (s.Break ([]) ([])) s.NoBlock s.End) s.NoBlock)) s.End) s.NoBlock)) (s.Then 7 (s.Return ([]) ([]) ([])) s.NoBlock s.End))) ≡ (RefusedAt 5 7 1)
unfolding computing
conditions_126 = refl

conditions_127 : body_verdict (record { predicates = ([]); specs = ((record { is_void = false; name = name_f; params = (name_p ∷ []); vars = ((name_v, sort.Val) ∷ []); pre = (record { opened = []; facts = ([]); locals = ((name_p, (Var 0 sort.Val)) ∷ []); items = ((Data (Number (pos 64)) (Var 0 sort.Val) (Of2 binary.Cons (Of unary.Vi (Number (pos 4))) Nil)) ∷ []) }); post = (record { opened = []; facts = ([]); locals = []; items = ((Data (Number (pos 64)) (Var 0 sort.Val) (Of2 binary.Cons (Of unary.Vi (Number (pos 4))) Nil)) ∷ []) }) }) ∷ []) }) (record { is_void = false; name = name_f; params = (name_p ∷ []); vars = ((name_v, sort.Val) ∷ []); pre = (record { opened = []; facts = ([]); locals = ((name_p, (Var 0 sort.Val)) ∷ []); items = ((Data (Number (pos 64)) (Var 0 sort.Val) (Of2 binary.Cons (Of unary.Vi (Number (pos 4))) Nil)) ∷ []) }); post = (record { opened = []; facts = ([]); locals = []; items = ((Data (Number (pos 64)) (Var 0 sort.Val) (Of2 binary.Cons (Of unary.Vi (Number (pos 4))) Nil)) ∷ []) }) }) (record { temps = (name_p ∷ name_t ∷ []); body = (c.Then (c.Set 1 (c.Const 0)) (c.Then (c.Loop (c.Then (c.If (c.Nonzero kind.Signed (c.Binary two.Eq kind.Signed (c.Temp 1) (c.Const 0))) (c.Then c.Break c.End) (c.Then c.Break c.End)) c.End)) (c.Then (c.Return (Some (c.Const 0))) c.End))) }) (s.Then 1 (s.Set ([]) ([])) s.NoBlock (s.Then 2 (s.While (record { opened = []; facts = ([]); locals = ((name_p, (Named name_v)) ∷ (name_t, (Of unary.Vi (Number (pos 0)))) ∷ []); items = ((Data (Number (pos 64)) (Named name_v) (Of2 binary.Cons (Of unary.Vi (Number (pos 4))) Nil)) ∷ []) }) (record { opened = []; facts = ([]); locals = ((name_p, (Named name_v)) ∷ []); items = ((Data (Number (pos 64)) (Named name_v) (Of2 binary.Cons (Of unary.Vi (Number (pos 4))) Nil)) ∷ []) }) ([]) ([]) ([])) (s.WithBlock (s.Then 3 (s.Meet ([]) ([])) s.NoBlock s.End) (s.WithBlock (s.Then 4 (s.If ([]) ([]) ([]) ([])) (s.WithBlock (s.Then 5 (s.Break ([]) ((record { lines = ((line.Comb (((pos 1), 0) ∷ [])) ∷ []) }) ∷ [])) s.NoBlock s.End) (s.WithBlock (s.Then 6 (s.Break ([]) ([])) s.NoBlock s.End) s.NoBlock)) s.End) s.NoBlock)) (s.Then 7 (s.Return ([]) ([]) ([])) s.NoBlock s.End))) ≡ (RefusedAt 5 7 3)
unfolding computing
conditions_127 = refl

conditions_128 : body_verdict (record { predicates = ([]); specs = ((record { is_void = false; name = name_f; params = (name_p ∷ []); vars = ((name_v, sort.Val) ∷ []); pre = (record { opened = []; facts = ([]); locals = ((name_p, (Var 0 sort.Val)) ∷ []); items = ((Data (Number (pos 64)) (Var 0 sort.Val) (Of2 binary.Cons (Of unary.Vi (Number (pos 4))) Nil)) ∷ []) }); post = (record { opened = []; facts = ([]); locals = []; items = ((Data (Number (pos 64)) (Var 0 sort.Val) (Of2 binary.Cons (Of unary.Vi (Number (pos 4))) Nil)) ∷ []) }) }) ∷ []) }) (record { is_void = false; name = name_f; params = (name_p ∷ []); vars = ((name_v, sort.Val) ∷ []); pre = (record { opened = []; facts = ([]); locals = ((name_p, (Var 0 sort.Val)) ∷ []); items = ((Data (Number (pos 64)) (Var 0 sort.Val) (Of2 binary.Cons (Of unary.Vi (Number (pos 4))) Nil)) ∷ []) }); post = (record { opened = []; facts = ([]); locals = []; items = ((Data (Number (pos 64)) (Var 0 sort.Val) (Of2 binary.Cons (Of unary.Vi (Number (pos 4))) Nil)) ∷ []) }) }) (record { temps = (name_p ∷ name_t ∷ []); body = (c.Then (c.Set 1 (c.Const 0)) (c.Then (c.Loop (c.Then (c.If (c.Nonzero kind.Signed (c.Binary two.Eq kind.Signed (c.Temp 1) (c.Const 0))) (c.Then c.Break c.End) (c.Then c.Break c.End)) c.End)) (c.Then (c.Return (Some (c.Const 0))) c.End))) }) (s.Then 1 (s.Set ([]) ([])) s.NoBlock (s.Then 2 (s.While (record { opened = []; facts = ([]); locals = ((name_p, (Named name_v)) ∷ (name_t, (Of unary.Vi (Number (pos 0)))) ∷ []); items = ((Data (Number (pos 64)) (Named name_v) (Of2 binary.Cons (Of unary.Vi (Number (pos 4))) Nil)) ∷ []) }) (record { opened = []; facts = ([]); locals = ((name_p, (Named name_v)) ∷ []); items = ((Data (Number (pos 64)) (Named name_v) (Of2 binary.Cons (Of unary.Vi (Number (pos 4))) Nil)) ∷ []) }) ([]) ([]) ([])) (s.WithBlock (s.Then 3 (s.Meet ([]) ([])) s.NoBlock s.End) (s.WithBlock (s.Then 4 (s.If ([]) ([]) ([]) ([])) (s.WithBlock (s.Then 5 (s.Share 0 (Number (pos 32)) ([])) s.NoBlock (s.Then 6 (s.Break ([]) ([])) s.NoBlock s.End)) (s.WithBlock (s.Then 7 (s.Break ([]) ([])) s.NoBlock s.End) s.NoBlock)) s.End) s.NoBlock)) (s.Then 8 (s.Return ([]) ([]) ([])) s.NoBlock s.End))) ≡ (RefusedAt 6 7 5)
unfolding computing
conditions_128 = refl

conditions_129 : body_verdict (record { predicates = ([]); specs = ((record { is_void = false; name = name_f; params = (name_p ∷ []); vars = ((name_v, sort.Val) ∷ []); pre = (record { opened = []; facts = ([]); locals = ((name_p, (Var 0 sort.Val)) ∷ []); items = ((Data (Number (pos 64)) (Var 0 sort.Val) (Of2 binary.Cons (Of unary.Vi (Number (pos 4))) Nil)) ∷ []) }); post = (record { opened = []; facts = ([]); locals = []; items = ((Data (Number (pos 64)) (Var 0 sort.Val) (Of2 binary.Cons (Of unary.Vi (Number (pos 4))) Nil)) ∷ []) }) }) ∷ []) }) (record { is_void = false; name = name_f; params = (name_p ∷ []); vars = ((name_v, sort.Val) ∷ []); pre = (record { opened = []; facts = ([]); locals = ((name_p, (Var 0 sort.Val)) ∷ []); items = ((Data (Number (pos 64)) (Var 0 sort.Val) (Of2 binary.Cons (Of unary.Vi (Number (pos 4))) Nil)) ∷ []) }); post = (record { opened = []; facts = ([]); locals = []; items = ((Data (Number (pos 64)) (Var 0 sort.Val) (Of2 binary.Cons (Of unary.Vi (Number (pos 4))) Nil)) ∷ []) }) }) (record { temps = (name_p ∷ name_t ∷ []); body = (c.Then (c.Set 1 (c.Const 0)) (c.Then (c.Loop (c.Then (c.If (c.Nonzero kind.Signed (c.Binary two.Eq kind.Signed (c.Temp 1) (c.Const 0))) (c.Then c.Break c.End) (c.Then c.Break c.End)) c.End)) (c.Then (c.Return (Some (c.Const 0))) c.End))) }) (s.Then 1 (s.Set ([]) ([])) s.NoBlock (s.Then 2 (s.While (record { opened = []; facts = ([]); locals = ((name_p, (Named name_v)) ∷ (name_t, (Of unary.Vi (Number (pos 0)))) ∷ []); items = ((Data (Number (pos 64)) (Named name_v) (Of2 binary.Cons (Of unary.Vi (Number (pos 4))) Nil)) ∷ []) }) (record { opened = []; facts = ([]); locals = ((name_p, (Named name_v)) ∷ []); items = ((Data (Number (pos 64)) (Named name_v) (Of2 binary.Cons (Of unary.Vi (Number (pos 4))) Nil)) ∷ []) }) ([]) ([]) ([])) (s.WithBlock (s.Then 3 (s.Meet ([]) ([])) s.NoBlock s.End) (s.WithBlock (s.Then 4 (s.If ([]) ([]) ([]) ([])) (s.WithBlock (s.Then 5 (s.Continue ([]) ([])) s.NoBlock s.End) (s.WithBlock (s.Then 6 (s.Break ([]) ([])) s.NoBlock s.End) s.NoBlock)) s.End) s.NoBlock)) (s.Then 7 (s.Return ([]) ([]) ([])) s.NoBlock s.End))) ≡ (RefusedAt 5 8 1)
unfolding computing
conditions_129 = refl

conditions_130 : body_verdict (record { predicates = ([]); specs = ((record { is_void = false; name = name_f; params = (name_p ∷ []); vars = ((name_v, sort.Val) ∷ []); pre = (record { opened = []; facts = ([]); locals = ((name_p, (Var 0 sort.Val)) ∷ []); items = ((Data (Number (pos 64)) (Var 0 sort.Val) (Of2 binary.Cons (Of unary.Vi (Number (pos 4))) Nil)) ∷ []) }); post = (record { opened = []; facts = ([]); locals = []; items = ((Data (Number (pos 64)) (Var 0 sort.Val) (Of2 binary.Cons (Of unary.Vi (Number (pos 4))) Nil)) ∷ []) }) }) ∷ []) }) (record { is_void = false; name = name_f; params = (name_p ∷ []); vars = ((name_v, sort.Val) ∷ []); pre = (record { opened = []; facts = ([]); locals = ((name_p, (Var 0 sort.Val)) ∷ []); items = ((Data (Number (pos 64)) (Var 0 sort.Val) (Of2 binary.Cons (Of unary.Vi (Number (pos 4))) Nil)) ∷ []) }); post = (record { opened = []; facts = ([]); locals = []; items = ((Data (Number (pos 64)) (Var 0 sort.Val) (Of2 binary.Cons (Of unary.Vi (Number (pos 4))) Nil)) ∷ []) }) }) (record { temps = (name_p ∷ name_t ∷ []); body = (c.Then (c.Set 1 (c.Const 0)) (c.Then (c.Loop (c.Then (c.If (c.Nonzero kind.Signed (c.Binary two.Eq kind.Signed (c.Temp 1) (c.Const 0))) (c.Then c.Skip c.End) (c.Then c.Break c.End)) c.End)) (c.Then (c.Return (Some (c.Const 0))) c.End))) }) (s.Then 1 (s.Set ([]) ([])) s.NoBlock (s.Then 2 (s.While (record { opened = []; facts = ([]); locals = ((name_p, (Named name_v)) ∷ (name_t, (Of unary.Vi (Number (pos 0)))) ∷ []); items = ((Data (Number (pos 64)) (Named name_v) (Of2 binary.Cons (Of unary.Vi (Number (pos 4))) Nil)) ∷ []) }) (record { opened = []; facts = ([]); locals = ((name_p, (Named name_v)) ∷ []); items = ((Data (Number (pos 64)) (Named name_v) (Of2 binary.Cons (Of unary.Vi (Number (pos 4))) Nil)) ∷ []) }) ([]) ([]) ([])) (s.WithBlock (s.Then 3 (s.Meet ([]) ([])) s.NoBlock s.End) (s.WithBlock (s.Then 4 (s.If ([]) ([]) ([]) ([])) (s.WithBlock (s.Then 5 (s.Fall ([]) ([])) s.NoBlock s.End) (s.WithBlock (s.Then 6 (s.Break ([]) ([])) s.NoBlock s.End) s.NoBlock)) s.End) s.NoBlock)) (s.Then 7 (s.Return ([]) ([]) ([])) s.NoBlock s.End))) ≡ (RefusedAt 5 10 1)
unfolding computing
conditions_130 = refl

conditions_131 : body_verdict (record { predicates = ([]); specs = ((record { is_void = false; name = name_f; params = (name_p ∷ []); vars = ((name_v, sort.Val) ∷ []); pre = (record { opened = []; facts = ([]); locals = ((name_p, (Var 0 sort.Val)) ∷ []); items = ((Data (Number (pos 64)) (Var 0 sort.Val) (Of2 binary.Cons (Of unary.Vi (Number (pos 4))) Nil)) ∷ []) }); post = (record { opened = []; facts = ([]); locals = []; items = ((Data (Number (pos 64)) (Var 0 sort.Val) (Of2 binary.Cons (Of unary.Vi (Number (pos 4))) Nil)) ∷ []) }) }) ∷ []) }) (record { is_void = false; name = name_f; params = (name_p ∷ []); vars = ((name_v, sort.Val) ∷ []); pre = (record { opened = []; facts = ([]); locals = ((name_p, (Var 0 sort.Val)) ∷ []); items = ((Data (Number (pos 64)) (Var 0 sort.Val) (Of2 binary.Cons (Of unary.Vi (Number (pos 4))) Nil)) ∷ []) }); post = (record { opened = []; facts = ([]); locals = []; items = ((Data (Number (pos 64)) (Var 0 sort.Val) (Of2 binary.Cons (Of unary.Vi (Number (pos 4))) Nil)) ∷ []) }) }) (record { temps = (name_p ∷ name_t ∷ []); body = (c.Then (c.Set 1 (c.Const 0)) (c.Then (c.Loop (c.Then (c.If (c.Nonzero kind.Signed (c.Binary two.Eq kind.Signed (c.Temp 1) (c.Const 0))) (c.Then c.Skip c.End) (c.Then c.Break c.End)) c.End)) (c.Then (c.Return (Some (c.Const 0))) c.End))) }) (s.Then 1 (s.Set ([]) ([])) s.NoBlock (s.Then 2 (s.While (record { opened = []; facts = ([]); locals = ((name_p, (Named name_v)) ∷ (name_t, (Of unary.Vi (Number (pos 0)))) ∷ []); items = ((Data (Number (pos 64)) (Named name_v) (Of2 binary.Cons (Of unary.Vi (Number (pos 4))) Nil)) ∷ []) }) (record { opened = []; facts = ([]); locals = ((name_p, (Named name_v)) ∷ []); items = ((Data (Number (pos 64)) (Named name_v) (Of2 binary.Cons (Of unary.Vi (Number (pos 4))) Nil)) ∷ []) }) ([]) ([]) ([])) (s.WithBlock (s.Then 3 (s.Meet ([]) ([])) s.NoBlock s.End) (s.WithBlock (s.Then 4 (s.If ([]) ([]) ([]) ([])) (s.WithBlock (s.Then 5 (s.Forget (forgotten.Local name_t)) s.NoBlock (s.Then 6 (s.Fall ([]) ([])) s.NoBlock s.End)) (s.WithBlock (s.Then 7 (s.Break ([]) ([])) s.NoBlock s.End) s.NoBlock)) s.End) s.NoBlock)) (s.Then 8 (s.Return ([]) ([]) ([])) s.NoBlock s.End))) ≡ (RefusedAt 6 10 1)
unfolding computing
conditions_131 = refl

conditions_132 : body_verdict (record { predicates = ([]); specs = ((record { is_void = false; name = name_f; params = (name_p ∷ []); vars = ((name_v, sort.Val) ∷ []); pre = (record { opened = []; facts = ([]); locals = ((name_p, (Var 0 sort.Val)) ∷ []); items = ((Data (Number (pos 64)) (Var 0 sort.Val) (Of2 binary.Cons (Of unary.Vi (Number (pos 4))) Nil)) ∷ []) }); post = (record { opened = []; facts = ([]); locals = []; items = ((Data (Number (pos 64)) (Var 0 sort.Val) (Of2 binary.Cons (Of unary.Vi (Number (pos 4))) Nil)) ∷ []) }) }) ∷ []) }) (record { is_void = false; name = name_f; params = (name_p ∷ []); vars = ((name_v, sort.Val) ∷ []); pre = (record { opened = []; facts = ([]); locals = ((name_p, (Var 0 sort.Val)) ∷ []); items = ((Data (Number (pos 64)) (Var 0 sort.Val) (Of2 binary.Cons (Of unary.Vi (Number (pos 4))) Nil)) ∷ []) }); post = (record { opened = []; facts = ([]); locals = []; items = ((Data (Number (pos 64)) (Var 0 sort.Val) (Of2 binary.Cons (Of unary.Vi (Number (pos 4))) Nil)) ∷ []) }) }) (record { temps = (name_p ∷ name_t ∷ []); body = (c.Then (c.Set 1 (c.Const 0)) (c.Then (c.Loop (c.Then (c.If (c.Nonzero kind.Signed (c.Binary two.Eq kind.Signed (c.Temp 1) (c.Const 0))) (c.Then c.Skip c.End) (c.Then c.Break c.End)) c.End)) (c.Then (c.Return (Some (c.Const 0))) c.End))) }) (s.Then 1 (s.Set ([]) ([])) s.NoBlock (s.Then 2 (s.While (record { opened = []; facts = ([]); locals = ((name_p, (Named name_v)) ∷ (name_t, (Of unary.Vi (Number (pos 0)))) ∷ []); items = ((Data (Number (pos 64)) (Named name_v) (Of2 binary.Cons (Of unary.Vi (Number (pos 4))) Nil)) ∷ []) }) (record { opened = []; facts = ([]); locals = ((name_p, (Named name_v)) ∷ []); items = ((Data (Number (pos 64)) (Named name_v) (Of2 binary.Cons (Of unary.Vi (Number (pos 4))) Nil)) ∷ []) }) ([]) ([]) ([])) (s.WithBlock (s.Then 3 (s.Meet ([]) ([])) s.NoBlock s.End) (s.WithBlock (s.Then 4 (s.If ([]) ([]) ([]) ([])) (s.WithBlock (s.Then 5 s.Skip s.NoBlock (s.Then 6 (s.Fall ([]) ([])) s.NoBlock s.End)) (s.WithBlock (s.Then 7 (s.Break ([]) ([])) s.NoBlock s.End) s.NoBlock)) s.End) s.NoBlock)) (s.Then 8 (s.Return ([]) ([]) ([])) s.NoBlock s.End))) ≡ Accepted
unfolding computing
conditions_132 = refl

conditions_133 : body_verdict (record { predicates = ([]); specs = ((record { is_void = false; name = name_f; params = (name_p ∷ []); vars = ((name_v, sort.Val) ∷ []); pre = (record { opened = []; facts = ([]); locals = ((name_p, (Var 0 sort.Val)) ∷ []); items = ((Data (Number (pos 64)) (Var 0 sort.Val) (Of2 binary.Cons (Of unary.Vi (Number (pos 4))) Nil)) ∷ []) }); post = (record { opened = []; facts = ([]); locals = []; items = ((Data (Number (pos 64)) (Var 0 sort.Val) (Of2 binary.Cons (Of unary.Vi (Number (pos 4))) Nil)) ∷ []) }) }) ∷ []) }) (record { is_void = false; name = name_f; params = (name_p ∷ []); vars = ((name_v, sort.Val) ∷ []); pre = (record { opened = []; facts = ([]); locals = ((name_p, (Var 0 sort.Val)) ∷ []); items = ((Data (Number (pos 64)) (Var 0 sort.Val) (Of2 binary.Cons (Of unary.Vi (Number (pos 4))) Nil)) ∷ []) }); post = (record { opened = []; facts = ([]); locals = []; items = ((Data (Number (pos 64)) (Var 0 sort.Val) (Of2 binary.Cons (Of unary.Vi (Number (pos 4))) Nil)) ∷ []) }) }) (record { temps = (name_p ∷ name_t ∷ []); body = (c.Then (c.Set 1 (c.Const 0)) (c.Then (c.Loop (c.Then (c.If (c.Nonzero kind.Signed (c.Binary two.Eq kind.Signed (c.Temp 1) (c.Const 0))) (c.Then c.Skip c.End) (c.Then c.Break c.End)) c.End)) (c.Then (c.Return (Some (c.Const 0))) c.End))) }) (s.Then 1 (s.Set ([]) ([])) s.NoBlock (s.Then 2 (s.While (record { opened = []; facts = ([]); locals = ((name_p, (Named name_v)) ∷ (name_t, (Of unary.Vi (Number (pos 0)))) ∷ []); items = ((Data (Number (pos 64)) (Named name_v) (Of2 binary.Cons (Of unary.Vi (Number (pos 4))) Nil)) ∷ []) }) (record { opened = []; facts = ([]); locals = ((name_p, (Named name_v)) ∷ []); items = ((Data (Number (pos 64)) (Named name_v) (Of2 binary.Cons (Of unary.Vi (Number (pos 4))) Nil)) ∷ []) }) ([]) ([]) ([])) (s.WithBlock (s.Then 3 (s.Meet ([]) ([])) s.NoBlock s.End) (s.WithBlock (s.Then 4 (s.If ([]) ([]) ([]) ([])) (s.WithBlock (s.Then 5 s.Skip s.NoBlock (s.Then 6 (s.Fall ((Named name_v) ∷ []) ([])) s.NoBlock s.End)) (s.WithBlock (s.Then 7 (s.Break ([]) ([])) s.NoBlock s.End) s.NoBlock)) s.End) s.NoBlock)) (s.Then 8 (s.Return ([]) ([]) ([])) s.NoBlock s.End))) ≡ (RefusedAt 6 10 1)
unfolding computing
conditions_133 = refl

conditions_134 : body_verdict (record { predicates = ([]); specs = ((record { is_void = false; name = name_f; params = (name_p ∷ []); vars = ((name_v, sort.Val) ∷ []); pre = (record { opened = []; facts = ([]); locals = ((name_p, (Var 0 sort.Val)) ∷ []); items = ((Data (Number (pos 64)) (Var 0 sort.Val) (Of2 binary.Cons (Of unary.Vi (Number (pos 4))) Nil)) ∷ []) }); post = (record { opened = []; facts = ([]); locals = []; items = ((Data (Number (pos 64)) (Var 0 sort.Val) (Of2 binary.Cons (Of unary.Vi (Number (pos 4))) Nil)) ∷ []) }) }) ∷ []) }) (record { is_void = false; name = name_f; params = (name_p ∷ []); vars = ((name_v, sort.Val) ∷ []); pre = (record { opened = []; facts = ([]); locals = ((name_p, (Var 0 sort.Val)) ∷ []); items = ((Data (Number (pos 64)) (Var 0 sort.Val) (Of2 binary.Cons (Of unary.Vi (Number (pos 4))) Nil)) ∷ []) }); post = (record { opened = []; facts = ([]); locals = []; items = ((Data (Number (pos 64)) (Var 0 sort.Val) (Of2 binary.Cons (Of unary.Vi (Number (pos 4))) Nil)) ∷ []) }) }) (record { temps = (name_p ∷ name_t ∷ []); body = (c.Then (c.Set 1 (c.Const 0)) (c.Then (c.Loop (c.Then (c.If (c.Nonzero kind.Signed (c.Binary two.Eq kind.Signed (c.Temp 1) (c.Const 0))) (c.Then c.Skip c.End) (c.Then c.Break c.End)) c.End)) (c.Then (c.Return (Some (c.Const 0))) c.End))) }) (s.Then 1 (s.Set ([]) ([])) s.NoBlock (s.Then 2 (s.While (record { opened = []; facts = ([]); locals = ((name_p, (Named name_v)) ∷ (name_t, (Of unary.Vi (Number (pos 0)))) ∷ []); items = ((Data (Number (pos 64)) (Named name_v) (Of2 binary.Cons (Of unary.Vi (Number (pos 4))) Nil)) ∷ []) }) (record { opened = []; facts = ([]); locals = ((name_p, (Named name_v)) ∷ []); items = ((Data (Number (pos 64)) (Named name_v) (Of2 binary.Cons (Of unary.Vi (Number (pos 4))) Nil)) ∷ []) }) ([]) ([]) ([])) (s.WithBlock (s.Then 3 (s.Meet ([]) ([])) s.NoBlock s.End) (s.WithBlock (s.Then 4 (s.If ([]) ([]) ([]) ([])) (s.WithBlock (s.Then 5 s.Skip s.NoBlock (s.Then 6 (s.Share 0 (Number (pos 32)) ([])) s.NoBlock (s.Then 7 (s.Fall ([]) ([])) s.NoBlock s.End))) (s.WithBlock (s.Then 8 (s.Break ([]) ([])) s.NoBlock s.End) s.NoBlock)) s.End) s.NoBlock)) (s.Then 9 (s.Return ([]) ([]) ([])) s.NoBlock s.End))) ≡ (RefusedAt 7 10 5)
unfolding computing
conditions_134 = refl

conditions_135 : body_verdict (record { predicates = ([]); specs = ((record { is_void = false; name = name_f; params = (name_p ∷ []); vars = ((name_v, sort.Val) ∷ []); pre = (record { opened = []; facts = ([]); locals = ((name_p, (Var 0 sort.Val)) ∷ []); items = ((Data (Number (pos 64)) (Var 0 sort.Val) (Of2 binary.Cons (Of unary.Vi (Number (pos 4))) Nil)) ∷ []) }); post = (record { opened = []; facts = ([]); locals = []; items = ((Data (Number (pos 64)) (Var 0 sort.Val) (Of2 binary.Cons (Of unary.Vi (Number (pos 4))) Nil)) ∷ []) }) }) ∷ []) }) (record { is_void = false; name = name_f; params = (name_p ∷ []); vars = ((name_v, sort.Val) ∷ []); pre = (record { opened = []; facts = ([]); locals = ((name_p, (Var 0 sort.Val)) ∷ []); items = ((Data (Number (pos 64)) (Var 0 sort.Val) (Of2 binary.Cons (Of unary.Vi (Number (pos 4))) Nil)) ∷ []) }); post = (record { opened = []; facts = ([]); locals = []; items = ((Data (Number (pos 64)) (Var 0 sort.Val) (Of2 binary.Cons (Of unary.Vi (Number (pos 4))) Nil)) ∷ []) }) }) (record { temps = (name_p ∷ name_t ∷ []); body = (c.Then (c.Set 1 (c.Const 0)) (c.Then (c.Loop (c.Then (c.If (c.Nonzero kind.Signed (c.Binary two.Eq kind.Signed (c.Temp 1) (c.Const 0))) (c.Then c.Skip c.End) (c.Then c.Break c.End)) c.End)) (c.Then (c.Return (Some (c.Const 0))) c.End))) }) (s.Then 1 (s.Set ([]) ([])) s.NoBlock (s.Then 2 (s.While (record { opened = []; facts = ([]); locals = ((name_p, (Named name_v)) ∷ (name_t, (Of unary.Vi (Number (pos 0)))) ∷ []); items = ((Data (Number (pos 64)) (Named name_v) (Of2 binary.Cons (Of unary.Vi (Number (pos 4))) Nil)) ∷ []) }) (record { opened = []; facts = ([]); locals = ((name_p, (Named name_v)) ∷ []); items = ((Data (Number (pos 64)) (Named name_v) (Of2 binary.Cons (Of unary.Vi (Number (pos 4))) Nil)) ∷ []) }) ([]) ([]) ([])) (s.WithBlock (s.Then 3 (s.Meet ([]) ([])) s.NoBlock s.End) (s.WithBlock (s.Then 4 (s.If ([]) ([]) ([]) ([])) (s.WithBlock (s.Then 5 s.Skip s.NoBlock (s.Then 6 (s.Forget (forgotten.Local name_t)) s.NoBlock (s.Then 7 (s.Fall ([]) ([])) s.NoBlock s.End))) (s.WithBlock (s.Then 8 (s.Break ([]) ([])) s.NoBlock s.End) s.NoBlock)) s.End) s.NoBlock)) (s.Then 9 (s.Return ([]) ([]) ([])) s.NoBlock s.End))) ≡ (RefusedAt 7 10 4)
unfolding computing
conditions_135 = refl

conditions_136 : body_verdict (record { predicates = ([]); specs = ((record { is_void = false; name = name_f; params = (name_p ∷ []); vars = ((name_v, sort.Val) ∷ []); pre = (record { opened = []; facts = ([]); locals = ((name_p, (Var 0 sort.Val)) ∷ []); items = ((Data (Number (pos 64)) (Var 0 sort.Val) (Of2 binary.Cons (Of unary.Vi (Number (pos 4))) Nil)) ∷ []) }); post = (record { opened = []; facts = ([]); locals = []; items = ((Data (Number (pos 64)) (Var 0 sort.Val) (Of2 binary.Cons (Of unary.Vi (Number (pos 4))) Nil)) ∷ []) }) }) ∷ []) }) (record { is_void = false; name = name_f; params = (name_p ∷ []); vars = ((name_v, sort.Val) ∷ []); pre = (record { opened = []; facts = ([]); locals = ((name_p, (Var 0 sort.Val)) ∷ []); items = ((Data (Number (pos 64)) (Var 0 sort.Val) (Of2 binary.Cons (Of unary.Vi (Number (pos 4))) Nil)) ∷ []) }); post = (record { opened = []; facts = ([]); locals = []; items = ((Data (Number (pos 64)) (Var 0 sort.Val) (Of2 binary.Cons (Of unary.Vi (Number (pos 4))) Nil)) ∷ []) }) }) (record { temps = (name_p ∷ name_t ∷ []); body = (c.Then (c.Set 1 (c.Const 0)) (c.Then (c.Loop (c.Then (c.If (c.Nonzero kind.Signed (c.Binary two.Eq kind.Signed (c.Temp 1) (c.Const 0))) (c.Then c.Skip c.End) (c.Then c.Break c.End)) c.End)) (c.Then (c.Return (Some (c.Const 0))) c.End))) }) (s.Then 1 (s.Set ([]) ([])) s.NoBlock (s.Then 2 (s.While (record { opened = []; facts = ([]); locals = ((name_p, (Named name_v)) ∷ (name_t, (Of unary.Vi (Number (pos 0)))) ∷ []); items = ((Data (Number (pos 64)) (Named name_v) (Of2 binary.Cons (Of unary.Vi (Number (pos 4))) Nil)) ∷ []) }) (record { opened = []; facts = ([]); locals = ((name_p, (Named name_v)) ∷ []); items = ((Data (Number (pos 64)) (Named name_v) (Of2 binary.Cons (Of unary.Vi (Number (pos 4))) Nil)) ∷ []) }) ([]) ([]) ([])) (s.WithBlock (s.Then 3 (s.Meet ([]) ([])) s.NoBlock s.End) (s.WithBlock (s.Then 4 (s.If ([]) ([]) ([]) ([])) (s.WithBlock (s.Then 5 s.Skip s.NoBlock (s.Then 6 (s.Meet ([]) ([])) s.NoBlock s.End)) (s.WithBlock (s.Then 7 (s.Break ([]) ([])) s.NoBlock s.End) s.NoBlock)) s.End) s.NoBlock)) (s.Then 8 (s.Return ([]) ([]) ([])) s.NoBlock s.End))) ≡ (RefusedAt 6 37 1)
unfolding computing
conditions_136 = refl

conditions_137 : body_verdict (record { predicates = ([]); specs = ((record { is_void = false; name = name_f; params = (name_p ∷ []); vars = ((name_v, sort.Val) ∷ []); pre = (record { opened = []; facts = ([]); locals = ((name_p, (Var 0 sort.Val)) ∷ []); items = ((Data (Number (pos 64)) (Var 0 sort.Val) (Of2 binary.Cons (Of unary.Vi (Number (pos 4))) Nil)) ∷ []) }); post = (record { opened = []; facts = ([]); locals = []; items = ((Data (Number (pos 64)) (Var 0 sort.Val) (Of2 binary.Cons (Of unary.Vi (Number (pos 4))) Nil)) ∷ []) }) }) ∷ []) }) (record { is_void = false; name = name_f; params = (name_p ∷ []); vars = ((name_v, sort.Val) ∷ []); pre = (record { opened = []; facts = ([]); locals = ((name_p, (Var 0 sort.Val)) ∷ []); items = ((Data (Number (pos 64)) (Var 0 sort.Val) (Of2 binary.Cons (Of unary.Vi (Number (pos 4))) Nil)) ∷ []) }); post = (record { opened = []; facts = ([]); locals = []; items = ((Data (Number (pos 64)) (Var 0 sort.Val) (Of2 binary.Cons (Of unary.Vi (Number (pos 4))) Nil)) ∷ []) }) }) (record { temps = (name_p ∷ name_t ∷ []); body = (c.Then (c.Set 1 (c.Const 0)) (c.Then (c.Loop (c.Then (c.If (c.Nonzero kind.Signed (c.Binary two.Eq kind.Signed (c.Temp 1) (c.Const 0))) (c.Then c.Continue c.End) (c.Then c.Break c.End)) c.End)) (c.Then (c.Return (Some (c.Const 0))) c.End))) }) (s.Then 1 (s.Set ([]) ([])) s.NoBlock (s.Then 2 (s.While (record { opened = []; facts = ([]); locals = ((name_p, (Named name_v)) ∷ (name_t, (Of unary.Vi (Number (pos 0)))) ∷ []); items = ((Data (Number (pos 64)) (Named name_v) (Of2 binary.Cons (Of unary.Vi (Number (pos 4))) Nil)) ∷ (Pred (record { name = name_Z; args = ((Number (pos 1)) ∷ []) })) ∷ []) }) (record { opened = []; facts = ([]); locals = ((name_p, (Named name_v)) ∷ []); items = ((Data (Number (pos 64)) (Named name_v) (Of2 binary.Cons (Of unary.Vi (Number (pos 4))) Nil)) ∷ []) }) ([]) ([]) ([])) (s.WithBlock (s.Then 3 (s.Meet ([]) ([])) s.NoBlock s.End) (s.WithBlock (s.Then 4 (s.If ([]) ([]) ([]) ([])) (s.WithBlock (s.Then 5 (s.Continue ([]) ([])) s.NoBlock s.End) (s.WithBlock (s.Then 6 (s.Break ([]) ([])) s.NoBlock s.End) s.NoBlock)) s.End) s.NoBlock)) (s.Then 7 (s.Return ([]) ([]) ([])) s.NoBlock s.End))) ≡ (RefusedAt 2 6 7)
unfolding computing
conditions_137 = refl

conditions_138 : body_verdict (record { predicates = ([]); specs = ((record { is_void = false; name = name_f; params = (name_p ∷ []); vars = ((name_v, sort.Val) ∷ []); pre = (record { opened = []; facts = ([]); locals = ((name_p, (Var 0 sort.Val)) ∷ []); items = ((Data (Number (pos 64)) (Var 0 sort.Val) (Of2 binary.Cons (Of unary.Vi (Number (pos 4))) Nil)) ∷ []) }); post = (record { opened = []; facts = ([]); locals = []; items = ((Data (Number (pos 64)) (Var 0 sort.Val) (Of2 binary.Cons (Of unary.Vi (Number (pos 4))) Nil)) ∷ []) }) }) ∷ []) }) (record { is_void = false; name = name_f; params = (name_p ∷ []); vars = ((name_v, sort.Val) ∷ []); pre = (record { opened = []; facts = ([]); locals = ((name_p, (Var 0 sort.Val)) ∷ []); items = ((Data (Number (pos 64)) (Var 0 sort.Val) (Of2 binary.Cons (Of unary.Vi (Number (pos 4))) Nil)) ∷ []) }); post = (record { opened = []; facts = ([]); locals = []; items = ((Data (Number (pos 64)) (Var 0 sort.Val) (Of2 binary.Cons (Of unary.Vi (Number (pos 4))) Nil)) ∷ []) }) }) (record { temps = (name_p ∷ name_t ∷ []); body = (c.Then (c.Set 1 (c.Const 0)) (c.Then (c.Loop (c.Then (c.If (c.Nonzero kind.Signed (c.Binary two.Eq kind.Signed (c.Temp 1) (c.Const 0))) (c.Then c.Continue c.End) (c.Then c.Break c.End)) c.End)) (c.Then (c.Return (Some (c.Const 0))) c.End))) }) (s.Then 1 (s.Set ([]) ([])) s.NoBlock (s.Then 2 (s.While (record { opened = []; facts = ([]); locals = ((name_p, (Named name_v)) ∷ (name_t, (Of unary.Vi (Number (pos 0)))) ∷ []); items = ((Data (Number (pos 64)) (Named name_v) (Of2 binary.Cons (Of unary.Vi (Number (pos 4))) Nil)) ∷ []) }) (record { opened = []; facts = ([]); locals = ((name_p, (Named name_v)) ∷ []); items = ((Data (Number (pos 64)) (Named name_v) (Of2 binary.Cons (Of unary.Vi (Number (pos 4))) Nil)) ∷ (Pred (record { name = name_Z; args = ((Number (pos 1)) ∷ []) })) ∷ []) }) ([]) ([]) ([])) (s.WithBlock (s.Then 3 (s.Meet ([]) ([])) s.NoBlock s.End) (s.WithBlock (s.Then 4 (s.If ([]) ([]) ([]) ([])) (s.WithBlock (s.Then 5 (s.Continue ([]) ([])) s.NoBlock s.End) (s.WithBlock (s.Then 6 (s.Break ([]) ([])) s.NoBlock s.End) s.NoBlock)) s.End) s.NoBlock)) (s.Then 7 (s.Return ([]) ([]) ([])) s.NoBlock s.End))) ≡ (RefusedAt 2 6 7)
unfolding computing
conditions_138 = refl

conditions_139 : body_verdict (record { predicates = ([]); specs = ((record { is_void = false; name = name_f; params = (name_p ∷ []); vars = ((name_v, sort.Val) ∷ []); pre = (record { opened = []; facts = ([]); locals = ((name_p, (Var 0 sort.Val)) ∷ []); items = ((Data (Number (pos 64)) (Var 0 sort.Val) (Of2 binary.Cons (Of unary.Vi (Number (pos 4))) Nil)) ∷ []) }); post = (record { opened = []; facts = ([]); locals = []; items = ((Data (Number (pos 64)) (Var 0 sort.Val) (Of2 binary.Cons (Of unary.Vi (Number (pos 4))) Nil)) ∷ []) }) }) ∷ []) }) (record { is_void = false; name = name_f; params = (name_p ∷ []); vars = ((name_v, sort.Val) ∷ []); pre = (record { opened = []; facts = ([]); locals = ((name_p, (Var 0 sort.Val)) ∷ []); items = ((Data (Number (pos 64)) (Var 0 sort.Val) (Of2 binary.Cons (Of unary.Vi (Number (pos 4))) Nil)) ∷ []) }); post = (record { opened = []; facts = ([]); locals = []; items = ((Data (Number (pos 64)) (Var 0 sort.Val) (Of2 binary.Cons (Of unary.Vi (Number (pos 4))) Nil)) ∷ []) }) }) (record { temps = (name_p ∷ name_t ∷ []); body = (c.Then (c.Set 1 (c.Const 0)) (c.Then (c.Loop (c.Then (c.If (c.Nonzero kind.Signed (c.Binary two.Eq kind.Signed (c.Temp 1) (c.Const 0))) (c.Then c.Continue c.End) (c.Then c.Break c.End)) c.End)) (c.Then (c.Return (Some (c.Const 0))) c.End))) }) (s.Then 1 (s.Set ([]) ([])) s.NoBlock (s.Then 2 (s.While (record { opened = []; facts = ([]); locals = ((name_p, (Named name_v)) ∷ (name_z, (Of unary.Vi (Number (pos 0)))) ∷ []); items = ((Data (Number (pos 64)) (Named name_v) (Of2 binary.Cons (Of unary.Vi (Number (pos 4))) Nil)) ∷ []) }) (record { opened = []; facts = ([]); locals = ((name_p, (Named name_v)) ∷ []); items = ((Data (Number (pos 64)) (Named name_v) (Of2 binary.Cons (Of unary.Vi (Number (pos 4))) Nil)) ∷ []) }) ([]) ([]) ([])) (s.WithBlock (s.Then 3 (s.Meet ([]) ([])) s.NoBlock s.End) (s.WithBlock (s.Then 4 (s.If ([]) ([]) ([]) ([])) (s.WithBlock (s.Then 5 (s.Continue ([]) ([])) s.NoBlock s.End) (s.WithBlock (s.Then 6 (s.Break ([]) ([])) s.NoBlock s.End) s.NoBlock)) s.End) s.NoBlock)) (s.Then 7 (s.Return ([]) ([]) ([])) s.NoBlock s.End))) ≡ (RefusedAt 2 6 4)
unfolding computing
conditions_139 = refl

conditions_140 : body_verdict (record { predicates = ([]); specs = ((record { is_void = false; name = name_f; params = (name_p ∷ []); vars = ((name_v, sort.Val) ∷ []); pre = (record { opened = []; facts = ([]); locals = ((name_p, (Var 0 sort.Val)) ∷ []); items = ((Data (Number (pos 64)) (Var 0 sort.Val) (Of2 binary.Cons (Of unary.Vi (Number (pos 4))) Nil)) ∷ []) }); post = (record { opened = []; facts = ([]); locals = []; items = ((Data (Number (pos 64)) (Var 0 sort.Val) (Of2 binary.Cons (Of unary.Vi (Number (pos 4))) Nil)) ∷ []) }) }) ∷ []) }) (record { is_void = false; name = name_f; params = (name_p ∷ []); vars = ((name_v, sort.Val) ∷ []); pre = (record { opened = []; facts = ([]); locals = ((name_p, (Var 0 sort.Val)) ∷ []); items = ((Data (Number (pos 64)) (Var 0 sort.Val) (Of2 binary.Cons (Of unary.Vi (Number (pos 4))) Nil)) ∷ []) }); post = (record { opened = []; facts = ([]); locals = []; items = ((Data (Number (pos 64)) (Var 0 sort.Val) (Of2 binary.Cons (Of unary.Vi (Number (pos 4))) Nil)) ∷ []) }) }) (record { temps = (name_p ∷ name_t ∷ []); body = (c.Then (c.Set 1 (c.Const 0)) (c.Then (c.Loop (c.Then (c.If (c.Nonzero kind.Signed (c.Binary two.Eq kind.Signed (c.Temp 1) (c.Const 0))) (c.Then c.Continue c.End) (c.Then c.Break c.End)) c.End)) (c.Then (c.Return (Some (c.Const 0))) c.End))) }) (s.Then 1 (s.Set ([]) ([])) s.NoBlock (s.Then 2 (s.While (record { opened = []; facts = ([]); locals = ((name_p, (Named name_v)) ∷ (name_t, (Of unary.Vi (Number (pos 0)))) ∷ []); items = ((Data (Number (pos 64)) (Named name_v) (Of2 binary.Cons (Of unary.Vi (Number (pos 4))) Nil)) ∷ []) }) (record { opened = []; facts = ([]); locals = ((name_z, (Named name_v)) ∷ []); items = ((Data (Number (pos 64)) (Named name_v) (Of2 binary.Cons (Of unary.Vi (Number (pos 4))) Nil)) ∷ []) }) ([]) ([]) ([])) (s.WithBlock (s.Then 3 (s.Meet ([]) ([])) s.NoBlock s.End) (s.WithBlock (s.Then 4 (s.If ([]) ([]) ([]) ([])) (s.WithBlock (s.Then 5 (s.Continue ([]) ([])) s.NoBlock s.End) (s.WithBlock (s.Then 6 (s.Break ([]) ([])) s.NoBlock s.End) s.NoBlock)) s.End) s.NoBlock)) (s.Then 7 (s.Return ([]) ([]) ([])) s.NoBlock s.End))) ≡ (RefusedAt 2 6 4)
unfolding computing
conditions_140 = refl

conditions_141 : body_verdict (record { predicates = ([]); specs = ((record { is_void = false; name = name_f; params = (name_p ∷ []); vars = ((name_v, sort.Val) ∷ []); pre = (record { opened = []; facts = ([]); locals = ((name_p, (Var 0 sort.Val)) ∷ []); items = ((Data (Number (pos 64)) (Var 0 sort.Val) (Of2 binary.Cons (Of unary.Vi (Number (pos 4))) Nil)) ∷ []) }); post = (record { opened = []; facts = ([]); locals = []; items = ((Data (Number (pos 64)) (Var 0 sort.Val) (Of2 binary.Cons (Of unary.Vi (Number (pos 4))) Nil)) ∷ []) }) }) ∷ []) }) (record { is_void = false; name = name_f; params = (name_p ∷ []); vars = ((name_v, sort.Val) ∷ []); pre = (record { opened = []; facts = ([]); locals = ((name_p, (Var 0 sort.Val)) ∷ []); items = ((Data (Number (pos 64)) (Var 0 sort.Val) (Of2 binary.Cons (Of unary.Vi (Number (pos 4))) Nil)) ∷ []) }); post = (record { opened = []; facts = ([]); locals = []; items = ((Data (Number (pos 64)) (Var 0 sort.Val) (Of2 binary.Cons (Of unary.Vi (Number (pos 4))) Nil)) ∷ []) }) }) (record { temps = (name_p ∷ name_t ∷ []); body = (c.Then (c.Set 1 (c.Const 0)) (c.Then (c.Loop (c.Then (c.If (c.Nonzero kind.Signed (c.Binary two.Eq kind.Signed (c.Temp 1) (c.Const 0))) (c.Then c.Continue c.End) (c.Then c.Break c.End)) c.End)) (c.Then (c.Return (Some (c.Const 0))) c.End))) }) (s.Then 1 (s.Set ([]) ([])) s.NoBlock (s.Then 2 (s.While (record { opened = []; facts = ((Rel relation.Eq (Named name_v) (Number (pos 1))) ∷ []); locals = ((name_p, (Named name_v)) ∷ (name_t, (Of unary.Vi (Number (pos 0)))) ∷ []); items = ((Data (Number (pos 64)) (Named name_v) (Of2 binary.Cons (Of unary.Vi (Number (pos 4))) Nil)) ∷ []) }) (record { opened = []; facts = ([]); locals = ((name_p, (Named name_v)) ∷ []); items = ((Data (Number (pos 64)) (Named name_v) (Of2 binary.Cons (Of unary.Vi (Number (pos 4))) Nil)) ∷ []) }) ([]) ([]) ([])) (s.WithBlock (s.Then 3 (s.Meet ([]) ([])) s.NoBlock s.End) (s.WithBlock (s.Then 4 (s.If ([]) ([]) ([]) ([])) (s.WithBlock (s.Then 5 (s.Continue ([]) ([])) s.NoBlock s.End) (s.WithBlock (s.Then 6 (s.Break ([]) ([])) s.NoBlock s.End) s.NoBlock)) s.End) s.NoBlock)) (s.Then 7 (s.Return ([]) ([]) ([])) s.NoBlock s.End))) ≡ (RefusedAt 2 6 1)
unfolding computing
conditions_141 = refl

conditions_142 : body_verdict (record { predicates = ([]); specs = ((record { is_void = false; name = name_f; params = (name_p ∷ []); vars = ((name_v, sort.Val) ∷ []); pre = (record { opened = []; facts = ([]); locals = ((name_p, (Var 0 sort.Val)) ∷ []); items = ((Data (Number (pos 64)) (Var 0 sort.Val) (Of2 binary.Cons (Of unary.Vi (Number (pos 4))) Nil)) ∷ []) }); post = (record { opened = []; facts = ([]); locals = []; items = ((Data (Number (pos 64)) (Var 0 sort.Val) (Of2 binary.Cons (Of unary.Vi (Number (pos 4))) Nil)) ∷ []) }) }) ∷ []) }) (record { is_void = false; name = name_f; params = (name_p ∷ []); vars = ((name_v, sort.Val) ∷ []); pre = (record { opened = []; facts = ([]); locals = ((name_p, (Var 0 sort.Val)) ∷ []); items = ((Data (Number (pos 64)) (Var 0 sort.Val) (Of2 binary.Cons (Of unary.Vi (Number (pos 4))) Nil)) ∷ []) }); post = (record { opened = []; facts = ([]); locals = []; items = ((Data (Number (pos 64)) (Var 0 sort.Val) (Of2 binary.Cons (Of unary.Vi (Number (pos 4))) Nil)) ∷ []) }) }) (record { temps = (name_p ∷ name_t ∷ []); body = (c.Then (c.Set 1 (c.Const 0)) (c.Then (c.Loop (c.Then (c.If (c.Nonzero kind.Signed (c.Binary two.Eq kind.Signed (c.Temp 1) (c.Const 0))) (c.Then c.Continue c.End) (c.Then c.Break c.End)) c.End)) (c.Then (c.Return (Some (c.Const 0))) c.End))) }) (s.Then 1 (s.Set ([]) ([])) s.NoBlock (s.Then 2 (s.While (record { opened = []; facts = ([]); locals = ((name_p, (Named name_v)) ∷ (name_t, (Of unary.Vi (Number (pos 0)))) ∷ []); items = ((Data (Number (pos 64)) (Named name_v) (Of2 binary.Cons (Of unary.Vi (Number (pos 4))) Nil)) ∷ []) }) (record { opened = []; facts = ((Rel relation.Eq (Named name_v) (Number (pos 1))) ∷ []); locals = ((name_p, (Named name_v)) ∷ []); items = ((Data (Number (pos 64)) (Named name_v) (Of2 binary.Cons (Of unary.Vi (Number (pos 4))) Nil)) ∷ []) }) ([]) ([]) ([])) (s.WithBlock (s.Then 3 (s.Meet ([]) ([])) s.NoBlock s.End) (s.WithBlock (s.Then 4 (s.If ([]) ([]) ([]) ([])) (s.WithBlock (s.Then 5 (s.Continue ([]) ([])) s.NoBlock s.End) (s.WithBlock (s.Then 6 (s.Break ([]) ([])) s.NoBlock s.End) s.NoBlock)) s.End) s.NoBlock)) (s.Then 7 (s.Return ([]) ([]) ([])) s.NoBlock s.End))) ≡ (RefusedAt 2 6 1)
unfolding computing
conditions_142 = refl

conditions_143 : body_verdict (record { predicates = ([]); specs = ((record { is_void = false; name = name_f; params = (name_p ∷ []); vars = ((name_v, sort.Val) ∷ []); pre = (record { opened = []; facts = ([]); locals = ((name_p, (Var 0 sort.Val)) ∷ []); items = ((Data (Number (pos 64)) (Var 0 sort.Val) (Of2 binary.Cons (Of unary.Vi (Number (pos 4))) Nil)) ∷ []) }); post = (record { opened = []; facts = ([]); locals = []; items = ((Data (Number (pos 64)) (Var 0 sort.Val) (Of2 binary.Cons (Of unary.Vi (Number (pos 4))) Nil)) ∷ []) }) }) ∷ []) }) (record { is_void = false; name = name_f; params = (name_p ∷ []); vars = ((name_v, sort.Val) ∷ []); pre = (record { opened = []; facts = ([]); locals = ((name_p, (Var 0 sort.Val)) ∷ []); items = ((Data (Number (pos 64)) (Var 0 sort.Val) (Of2 binary.Cons (Of unary.Vi (Number (pos 4))) Nil)) ∷ []) }); post = (record { opened = []; facts = ([]); locals = []; items = ((Data (Number (pos 64)) (Var 0 sort.Val) (Of2 binary.Cons (Of unary.Vi (Number (pos 4))) Nil)) ∷ []) }) }) (record { temps = (name_p ∷ name_t ∷ []); body = (c.Then (c.Set 1 (c.Const 0)) (c.Then (c.Loop (c.Then (c.If (c.Nonzero kind.Signed (c.Binary two.Eq kind.Signed (c.Temp 1) (c.Const 0))) (c.Then c.Continue c.End) (c.Then c.Break c.End)) c.End)) (c.Then (c.Return (Some (c.Const 0))) c.End))) }) (s.Then 1 (s.Set ([]) ([])) s.NoBlock (s.Then 2 (s.While (record { opened = []; facts = ([]); locals = ((name_p, (Named name_v)) ∷ (name_t, (Of unary.Vi (Number (pos 0)))) ∷ []); items = ((Data (Number (pos 64)) (Named name_v) (Of2 binary.Cons (Of unary.Vi (Number (pos 4))) Nil)) ∷ []) }) (record { opened = []; facts = ([]); locals = ((name_p, (Named name_v)) ∷ []); items = ((Data (Number (pos 64)) (Named name_v) (Of2 binary.Cons (Of unary.Vi (Number (pos 4))) Nil)) ∷ []) }) (name_k ∷ []) ([]) ([])) (s.WithBlock (s.Then 3 (s.Meet ([]) ([])) s.NoBlock s.End) (s.WithBlock (s.Then 4 (s.If ([]) ([]) ([]) ([])) (s.WithBlock (s.Then 5 (s.Continue ([]) ([])) s.NoBlock s.End) (s.WithBlock (s.Then 6 (s.Break ([]) ([])) s.NoBlock s.End) s.NoBlock)) s.End) s.NoBlock)) (s.Then 7 (s.Return ([]) ([]) ([])) s.NoBlock s.End))) ≡ (RefusedAt 2 6 6)
unfolding computing
conditions_143 = refl

conditions_144 : body_verdict (record { predicates = ([]); specs = ((record { is_void = false; name = name_f; params = (name_p ∷ []); vars = ((name_v, sort.Val) ∷ []); pre = (record { opened = []; facts = ([]); locals = ((name_p, (Var 0 sort.Val)) ∷ []); items = ((Data (Number (pos 64)) (Var 0 sort.Val) (Of2 binary.Cons (Of unary.Vi (Number (pos 4))) Nil)) ∷ []) }); post = (record { opened = []; facts = ([]); locals = []; items = ((Data (Number (pos 64)) (Var 0 sort.Val) (Of2 binary.Cons (Of unary.Vi (Number (pos 4))) Nil)) ∷ []) }) }) ∷ []) }) (record { is_void = false; name = name_f; params = (name_p ∷ []); vars = ((name_v, sort.Val) ∷ []); pre = (record { opened = []; facts = ([]); locals = ((name_p, (Var 0 sort.Val)) ∷ []); items = ((Data (Number (pos 64)) (Var 0 sort.Val) (Of2 binary.Cons (Of unary.Vi (Number (pos 4))) Nil)) ∷ []) }); post = (record { opened = []; facts = ([]); locals = []; items = ((Data (Number (pos 64)) (Var 0 sort.Val) (Of2 binary.Cons (Of unary.Vi (Number (pos 4))) Nil)) ∷ []) }) }) (record { temps = (name_p ∷ name_t ∷ []); body = (c.Then (c.Set 1 (c.Const 0)) (c.Then (c.Loop (c.Then (c.If (c.Nonzero kind.Signed (c.Binary two.Eq kind.Signed (c.Temp 1) (c.Const 0))) (c.Then c.Continue c.End) (c.Then c.Break c.End)) c.End)) (c.Then (c.Return (Some (c.Const 0))) c.End))) }) (s.Then 1 (s.Set ([]) ([])) s.NoBlock (s.Then 2 (s.While (record { opened = []; facts = ([]); locals = ((name_p, (Named name_v)) ∷ (name_t, (Of unary.Vi (Number (pos 0)))) ∷ []); items = ((Data (Number (pos 64)) (Named name_v) (Of2 binary.Cons (Of unary.Vi (Number (pos 4))) Nil)) ∷ []) }) (record { opened = (sort.Int ∷ []); facts = ([]); locals = ((name_p, (Named name_v)) ∷ []); items = ((Data (Number (pos 64)) (Named name_v) (Of2 binary.Cons (Of unary.Vi (Number (pos 4))) Nil)) ∷ []) }) (name_k ∷ []) ([]) ([])) (s.WithBlock (s.Then 3 (s.Meet ([]) ([])) s.NoBlock s.End) (s.WithBlock (s.Then 4 (s.If ([]) ([]) ([]) ([])) (s.WithBlock (s.Then 5 (s.Continue ([]) ([])) s.NoBlock s.End) (s.WithBlock (s.Then 6 (s.Break ([]) ([])) s.NoBlock s.End) s.NoBlock)) s.End) s.NoBlock)) (s.Then 7 (s.Return ([]) ([]) ([])) s.NoBlock s.End))) ≡ (RefusedAt 6 7 1)
unfolding computing
conditions_144 = refl

conditions_145 : body_verdict (record { predicates = ([]); specs = ((record { is_void = false; name = name_f; params = (name_p ∷ []); vars = ((name_v, sort.Val) ∷ []); pre = (record { opened = []; facts = ([]); locals = ((name_p, (Var 0 sort.Val)) ∷ []); items = ((Data (Number (pos 64)) (Var 0 sort.Val) (Of2 binary.Cons (Of unary.Vi (Number (pos 4))) Nil)) ∷ []) }); post = (record { opened = []; facts = ([]); locals = []; items = ((Data (Number (pos 64)) (Var 0 sort.Val) (Of2 binary.Cons (Of unary.Vi (Number (pos 4))) Nil)) ∷ []) }) }) ∷ []) }) (record { is_void = false; name = name_f; params = (name_p ∷ []); vars = ((name_v, sort.Val) ∷ []); pre = (record { opened = []; facts = ([]); locals = ((name_p, (Var 0 sort.Val)) ∷ []); items = ((Data (Number (pos 64)) (Var 0 sort.Val) (Of2 binary.Cons (Of unary.Vi (Number (pos 4))) Nil)) ∷ []) }); post = (record { opened = []; facts = ([]); locals = []; items = ((Data (Number (pos 64)) (Var 0 sort.Val) (Of2 binary.Cons (Of unary.Vi (Number (pos 4))) Nil)) ∷ []) }) }) (record { temps = (name_p ∷ name_t ∷ []); body = (c.Then (c.Set 1 (c.Const 0)) (c.Then (c.Loop (c.Then (c.If (c.Nonzero kind.Signed (c.Binary two.Eq kind.Signed (c.Temp 1) (c.Const 0))) (c.Then c.Continue c.End) (c.Then c.Break c.End)) c.End)) (c.Then (c.Return (Some (c.Const 0))) c.End))) }) (s.Then 1 (s.Set ([]) ([])) s.NoBlock (s.Then 2 (s.While (record { opened = []; facts = ([]); locals = ((name_p, (Named name_v)) ∷ (name_t, (Of unary.Vi (Number (pos 0)))) ∷ []); items = ((Data (Number (pos 64)) (Named name_v) (Of2 binary.Cons (Of unary.Vi (Number (pos 4))) Nil)) ∷ []) }) (record { opened = (sort.Int ∷ []); facts = ([]); locals = ((name_p, (Named name_v)) ∷ []); items = ((Data (Number (pos 64)) (Named name_v) (Of2 binary.Cons (Of unary.Vi (Number (pos 4))) Nil)) ∷ []) }) (name_v ∷ []) ([]) ([])) (s.WithBlock (s.Then 3 (s.Meet ([]) ([])) s.NoBlock s.End) (s.WithBlock (s.Then 4 (s.If ([]) ([]) ([]) ([])) (s.WithBlock (s.Then 5 (s.Continue ([]) ([])) s.NoBlock s.End) (s.WithBlock (s.Then 6 (s.Break ([]) ([])) s.NoBlock s.End) s.NoBlock)) s.End) s.NoBlock)) (s.Then 7 (s.Return ([]) ([]) ([])) s.NoBlock s.End))) ≡ (RefusedAt 2 6 6)
unfolding computing
conditions_145 = refl

conditions_146 : body_verdict (record { predicates = ([]); specs = ((record { is_void = false; name = name_f; params = (name_p ∷ []); vars = ((name_v, sort.Val) ∷ []); pre = (record { opened = []; facts = ([]); locals = ((name_p, (Var 0 sort.Val)) ∷ []); items = ((Data (Number (pos 64)) (Var 0 sort.Val) (Of2 binary.Cons (Of unary.Vi (Number (pos 4))) Nil)) ∷ []) }); post = (record { opened = []; facts = ([]); locals = []; items = ((Data (Number (pos 64)) (Var 0 sort.Val) (Of2 binary.Cons (Of unary.Vi (Number (pos 4))) Nil)) ∷ []) }) }) ∷ []) }) (record { is_void = false; name = name_f; params = (name_p ∷ []); vars = ((name_v, sort.Val) ∷ []); pre = (record { opened = []; facts = ([]); locals = ((name_p, (Var 0 sort.Val)) ∷ []); items = ((Data (Number (pos 64)) (Var 0 sort.Val) (Of2 binary.Cons (Of unary.Vi (Number (pos 4))) Nil)) ∷ []) }); post = (record { opened = []; facts = ([]); locals = []; items = ((Data (Number (pos 64)) (Var 0 sort.Val) (Of2 binary.Cons (Of unary.Vi (Number (pos 4))) Nil)) ∷ []) }) }) (record { temps = (name_p ∷ name_t ∷ []); body = (c.Then (c.Set 1 (c.Const 0)) (c.Then (c.Loop (c.Then (c.If (c.Nonzero kind.Signed (c.Binary two.Eq kind.Signed (c.Temp 1) (c.Const 0))) (c.Then c.Continue c.End) (c.Then c.Break c.End)) c.End)) (c.Then (c.Return (Some (c.Const 0))) c.End))) }) (s.Then 1 (s.Set ([]) ([])) s.NoBlock (s.Then 2 (s.While (record { opened = []; facts = ([]); locals = ((name_p, (Named name_v)) ∷ (name_t, (Of unary.Vi (Number (pos 0)))) ∷ []); items = ((Data (Number (pos 64)) (Named name_v) (Of2 binary.Cons (Of unary.Vi (Number (pos 4))) Nil)) ∷ []) }) (record { opened = []; facts = ([]); locals = ((name_p, (Named name_v)) ∷ []); items = ((Data (Number (pos 64)) (Named name_v) (Of2 binary.Cons (Of unary.Vi (Number (pos 4))) Nil)) ∷ []) }) ([]) (name_k ∷ []) ([])) (s.WithBlock (s.Then 3 (s.Meet ([]) ([])) s.NoBlock s.End) (s.WithBlock (s.Then 4 (s.If ([]) ([]) ([]) ([])) (s.WithBlock (s.Then 5 (s.Continue ([]) ([])) s.NoBlock s.End) (s.WithBlock (s.Then 6 (s.Break ([]) ([])) s.NoBlock s.End) s.NoBlock)) s.End) s.NoBlock)) (s.Then 7 (s.Return ([]) ([]) ([])) s.NoBlock s.End))) ≡ (RefusedAt 2 6 6)
unfolding computing
conditions_146 = refl

conditions_147 : body_verdict (record { predicates = ([]); specs = ((record { is_void = false; name = name_f; params = (name_p ∷ []); vars = ((name_v, sort.Val) ∷ []); pre = (record { opened = []; facts = ([]); locals = ((name_p, (Var 0 sort.Val)) ∷ []); items = ((Data (Number (pos 64)) (Var 0 sort.Val) (Of2 binary.Cons (Of unary.Vi (Number (pos 4))) Nil)) ∷ []) }); post = (record { opened = []; facts = ([]); locals = []; items = ((Data (Number (pos 64)) (Var 0 sort.Val) (Of2 binary.Cons (Of unary.Vi (Number (pos 4))) Nil)) ∷ []) }) }) ∷ []) }) (record { is_void = false; name = name_f; params = (name_p ∷ []); vars = ((name_v, sort.Val) ∷ []); pre = (record { opened = []; facts = ([]); locals = ((name_p, (Var 0 sort.Val)) ∷ []); items = ((Data (Number (pos 64)) (Var 0 sort.Val) (Of2 binary.Cons (Of unary.Vi (Number (pos 4))) Nil)) ∷ []) }); post = (record { opened = []; facts = ([]); locals = []; items = ((Data (Number (pos 64)) (Var 0 sort.Val) (Of2 binary.Cons (Of unary.Vi (Number (pos 4))) Nil)) ∷ []) }) }) (record { temps = (name_p ∷ name_t ∷ []); body = (c.Then (c.Set 1 (c.Const 0)) (c.Then (c.Loop (c.Then (c.If (c.Nonzero kind.Signed (c.Binary two.Eq kind.Signed (c.Temp 1) (c.Const 0))) (c.Then c.Continue c.End) (c.Then c.Break c.End)) c.End)) (c.Then (c.Return (Some (c.Const 0))) c.End))) }) (s.Then 1 (s.Set ([]) ([])) s.NoBlock (s.Then 2 (s.While (record { opened = []; facts = ([]); locals = ((name_p, (Named name_v)) ∷ (name_t, (Of unary.Vi (Number (pos 0)))) ∷ []); items = ((Data (Number (pos 64)) (Named name_v) (Of2 binary.Cons (Of unary.Vi (Number (pos 4))) Nil)) ∷ []) }) (record { opened = []; facts = ([]); locals = ((name_p, (Named name_v)) ∷ []); items = ((Data (Number (pos 64)) (Named name_v) (Of2 binary.Cons (Of unary.Vi (Number (pos 4))) Nil)) ∷ []) }) ([]) ([]) (name_k ∷ [])) (s.WithBlock (s.Then 3 (s.Meet ([]) ([])) s.NoBlock s.End) (s.WithBlock (s.Then 4 (s.If ([]) ([]) ([]) ([])) (s.WithBlock (s.Then 5 (s.Continue ([]) ([])) s.NoBlock s.End) (s.WithBlock (s.Then 6 (s.Break ([]) ([])) s.NoBlock s.End) s.NoBlock)) s.End) s.NoBlock)) (s.Then 7 (s.Return ([]) ([]) ([])) s.NoBlock s.End))) ≡ (RefusedAt 2 6 6)
unfolding computing
conditions_147 = refl

conditions_148 : body_verdict (record { predicates = ([]); specs = ((record { is_void = false; name = name_f; params = (name_p ∷ []); vars = ((name_v, sort.Val) ∷ []); pre = (record { opened = []; facts = ([]); locals = ((name_p, (Var 0 sort.Val)) ∷ []); items = ((Data (Number (pos 64)) (Var 0 sort.Val) (Of2 binary.Cons (Of unary.Vi (Number (pos 4))) Nil)) ∷ []) }); post = (record { opened = []; facts = ([]); locals = []; items = ((Data (Number (pos 64)) (Var 0 sort.Val) (Of2 binary.Cons (Of unary.Vi (Number (pos 4))) Nil)) ∷ []) }) }) ∷ []) }) (record { is_void = false; name = name_f; params = (name_p ∷ []); vars = ((name_v, sort.Val) ∷ []); pre = (record { opened = []; facts = ([]); locals = ((name_p, (Var 0 sort.Val)) ∷ []); items = ((Data (Number (pos 64)) (Var 0 sort.Val) (Of2 binary.Cons (Of unary.Vi (Number (pos 4))) Nil)) ∷ []) }); post = (record { opened = []; facts = ([]); locals = []; items = ((Data (Number (pos 64)) (Var 0 sort.Val) (Of2 binary.Cons (Of unary.Vi (Number (pos 4))) Nil)) ∷ []) }) }) (record { temps = (name_p ∷ name_t ∷ []); body = (c.Then (c.Set 1 (c.Const 0)) (c.Then (c.Loop (c.Then (c.If (c.Nonzero kind.Signed (c.Binary two.Eq kind.Signed (c.Temp 1) (c.Const 0))) (c.Then c.Continue c.End) (c.Then c.Break c.End)) c.End)) (c.Then (c.Return (Some (c.Const 0))) c.End))) }) (s.Then 1 (s.Set ([]) ([])) s.NoBlock (s.Then 2 (s.While (record { opened = []; facts = ([]); locals = ((name_p, (Named name_v)) ∷ (name_t, (Of unary.Vi (Number (pos 0)))) ∷ []); items = ((Data (Number (pos 64)) (Named name_v) (Of2 binary.Cons (Of unary.Vi (Number (pos 4))) Nil)) ∷ []) }) (record { opened = []; facts = ([]); locals = ((name_p, (Named name_v)) ∷ []); items = ((Data (Number (pos 64)) (Named name_v) (Of2 binary.Cons (Of unary.Vi (Number (pos 4))) Nil)) ∷ []) }) ([]) ([]) ([])) (s.WithBlock (s.Then 3 (s.Fall ([]) ([])) s.NoBlock s.End) (s.WithBlock (s.Then 4 (s.If ([]) ([]) ([]) ([])) (s.WithBlock (s.Then 5 (s.Continue ([]) ([])) s.NoBlock s.End) (s.WithBlock (s.Then 6 (s.Break ([]) ([])) s.NoBlock s.End) s.NoBlock)) s.End) s.NoBlock)) (s.Then 7 (s.Return ([]) ([]) ([])) s.NoBlock s.End))) ≡ (RefusedAt 3 10 1)
unfolding computing
conditions_148 = refl

conditions_149 : body_verdict (record { predicates = ([]); specs = ((record { is_void = false; name = name_f; params = (name_p ∷ []); vars = ((name_v, sort.Val) ∷ []); pre = (record { opened = []; facts = ([]); locals = ((name_p, (Var 0 sort.Val)) ∷ []); items = ((Data (Number (pos 64)) (Var 0 sort.Val) (Of2 binary.Cons (Of unary.Vi (Number (pos 4))) Nil)) ∷ []) }); post = (record { opened = []; facts = ([]); locals = []; items = ((Data (Number (pos 64)) (Var 0 sort.Val) (Of2 binary.Cons (Of unary.Vi (Number (pos 4))) Nil)) ∷ []) }) }) ∷ []) }) (record { is_void = false; name = name_f; params = (name_p ∷ []); vars = ((name_v, sort.Val) ∷ []); pre = (record { opened = []; facts = ([]); locals = ((name_p, (Var 0 sort.Val)) ∷ []); items = ((Data (Number (pos 64)) (Var 0 sort.Val) (Of2 binary.Cons (Of unary.Vi (Number (pos 4))) Nil)) ∷ []) }); post = (record { opened = []; facts = ([]); locals = []; items = ((Data (Number (pos 64)) (Var 0 sort.Val) (Of2 binary.Cons (Of unary.Vi (Number (pos 4))) Nil)) ∷ []) }) }) (record { temps = (name_p ∷ name_t ∷ []); body = (c.Then (c.Set 1 (c.Const 0)) (c.Then (c.Loop (c.Then (c.If (c.Nonzero kind.Signed (c.Binary two.Eq kind.Signed (c.Temp 1) (c.Const 0))) (c.Then c.Continue c.End) (c.Then c.Break c.End)) c.End)) (c.Then (c.Return (Some (c.Const 0))) c.End))) }) (s.Then 1 (s.Set ([]) ([])) s.NoBlock (s.Then 2 (s.While (record { opened = []; facts = ([]); locals = ((name_p, (Named name_v)) ∷ (name_t, (Of unary.Vi (Number (pos 0)))) ∷ []); items = ((Data (Number (pos 64)) (Named name_v) (Of2 binary.Cons (Of unary.Vi (Number (pos 4))) Nil)) ∷ []) }) (record { opened = []; facts = ([]); locals = ((name_p, (Named name_v)) ∷ []); items = ((Data (Number (pos 64)) (Named name_v) (Of2 binary.Cons (Of unary.Vi (Number (pos 4))) Nil)) ∷ []) }) ([]) ([]) ([])) (s.WithBlock (s.Then 3 (s.Meet ((Named name_v) ∷ []) ([])) s.NoBlock s.End) (s.WithBlock (s.Then 4 (s.If ([]) ([]) ([]) ([])) (s.WithBlock (s.Then 5 (s.Continue ([]) ([])) s.NoBlock s.End) (s.WithBlock (s.Then 6 (s.Break ([]) ([])) s.NoBlock s.End) s.NoBlock)) s.End) s.NoBlock)) (s.Then 7 (s.Return ([]) ([]) ([])) s.NoBlock s.End))) ≡ (RefusedAt 3 37 1)
unfolding computing
conditions_149 = refl

conditions_150 : body_verdict (record { predicates = ([]); specs = ((record { is_void = false; name = name_f; params = (name_p ∷ []); vars = ((name_v, sort.Val) ∷ []); pre = (record { opened = []; facts = ([]); locals = ((name_p, (Var 0 sort.Val)) ∷ []); items = ((Data (Number (pos 64)) (Var 0 sort.Val) (Of2 binary.Cons (Of unary.Vi (Number (pos 4))) Nil)) ∷ []) }); post = (record { opened = []; facts = ([]); locals = []; items = ((Data (Number (pos 64)) (Var 0 sort.Val) (Of2 binary.Cons (Of unary.Vi (Number (pos 4))) Nil)) ∷ []) }) }) ∷ []) }) (record { is_void = false; name = name_f; params = (name_p ∷ []); vars = ((name_v, sort.Val) ∷ []); pre = (record { opened = []; facts = ([]); locals = ((name_p, (Var 0 sort.Val)) ∷ []); items = ((Data (Number (pos 64)) (Var 0 sort.Val) (Of2 binary.Cons (Of unary.Vi (Number (pos 4))) Nil)) ∷ []) }); post = (record { opened = []; facts = ([]); locals = []; items = ((Data (Number (pos 64)) (Var 0 sort.Val) (Of2 binary.Cons (Of unary.Vi (Number (pos 4))) Nil)) ∷ []) }) }) (record { temps = (name_p ∷ name_t ∷ []); body = (c.Then (c.Set 1 (c.Const 0)) (c.Then (c.Loop (c.Then (c.If (c.Nonzero kind.Signed (c.Binary two.Eq kind.Signed (c.Temp 1) (c.Const 0))) (c.Then c.Continue c.End) (c.Then c.Break c.End)) c.End)) (c.Then (c.Return (Some (c.Const 0))) c.End))) }) (s.Then 1 (s.Set ([]) ([])) s.NoBlock (s.Then 2 (s.While (record { opened = []; facts = ([]); locals = ((name_p, (Named name_v)) ∷ (name_t, (Of unary.Vi (Number (pos 0)))) ∷ []); items = ((Data (Number (pos 64)) (Named name_v) (Of2 binary.Cons (Of unary.Vi (Number (pos 4))) Nil)) ∷ []) }) (record { opened = []; facts = ([]); locals = ((name_p, (Named name_v)) ∷ []); items = ((Data (Number (pos 64)) (Named name_v) (Of2 binary.Cons (Of unary.Vi (Number (pos 4))) Nil)) ∷ []) }) ([]) ([]) ([])) (s.WithBlock (s.Then 3 (s.Share 0 (Number (pos 32)) ([])) s.NoBlock (s.Then 4 (s.Meet ([]) ([])) s.NoBlock s.End)) (s.WithBlock (s.Then 5 (s.If ([]) ([]) ([]) ([])) (s.WithBlock (s.Then 6 (s.Continue ([]) ([])) s.NoBlock s.End) (s.WithBlock (s.Then 7 (s.Break ([]) ([])) s.NoBlock s.End) s.NoBlock)) s.End) s.NoBlock)) (s.Then 8 (s.Return ([]) ([]) ([])) s.NoBlock s.End))) ≡ (RefusedAt 4 37 5)
unfolding computing
conditions_150 = refl

conditions_151 : body_verdict (record { predicates = ([]); specs = ((record { is_void = false; name = name_f; params = (name_p ∷ []); vars = ((name_v, sort.Val) ∷ []); pre = (record { opened = []; facts = ([]); locals = ((name_p, (Var 0 sort.Val)) ∷ []); items = ((Data (Number (pos 64)) (Var 0 sort.Val) (Of2 binary.Cons (Of unary.Vi (Number (pos 4))) Nil)) ∷ []) }); post = (record { opened = []; facts = ([]); locals = []; items = ((Data (Number (pos 64)) (Var 0 sort.Val) (Of2 binary.Cons (Of unary.Vi (Number (pos 4))) Nil)) ∷ []) }) }) ∷ []) }) (record { is_void = false; name = name_f; params = (name_p ∷ []); vars = ((name_v, sort.Val) ∷ []); pre = (record { opened = []; facts = ([]); locals = ((name_p, (Var 0 sort.Val)) ∷ []); items = ((Data (Number (pos 64)) (Var 0 sort.Val) (Of2 binary.Cons (Of unary.Vi (Number (pos 4))) Nil)) ∷ []) }); post = (record { opened = []; facts = ([]); locals = []; items = ((Data (Number (pos 64)) (Var 0 sort.Val) (Of2 binary.Cons (Of unary.Vi (Number (pos 4))) Nil)) ∷ []) }) }) (record { temps = (name_p ∷ []); body = (c.Then c.Skip (c.Then (c.Return (Some (c.Const 0))) c.End)) }) (s.Then 1 (s.While (record { opened = []; facts = ([]); locals = []; items = ([]) }) (record { opened = []; facts = ([]); locals = []; items = ([]) }) ([]) ([]) ([])) (s.WithBlock (s.Then 2 (s.Meet ([]) ([])) s.NoBlock s.End) (s.WithBlock (s.Then 3 (s.Fall ([]) ([])) s.NoBlock s.End) s.NoBlock)) (s.Then 4 (s.Return ([]) ([]) ([])) s.NoBlock s.End)) ≡ (RefusedAt 1 6 1)
unfolding computing
conditions_151 = refl

conditions_152 : body_verdict (record { predicates = ([]); specs = ((record { is_void = false; name = name_f; params = (name_p ∷ []); vars = ((name_v, sort.Val) ∷ []); pre = (record { opened = []; facts = ([]); locals = ((name_p, (Var 0 sort.Val)) ∷ []); items = ((Data (Number (pos 64)) (Var 0 sort.Val) (Of2 binary.Cons (Of unary.Vi (Number (pos 4))) Nil)) ∷ []) }); post = (record { opened = []; facts = ([]); locals = []; items = ((Data (Number (pos 64)) (Var 0 sort.Val) (Of2 binary.Cons (Of unary.Vi (Number (pos 4))) Nil)) ∷ []) }) }) ∷ []) }) (record { is_void = false; name = name_f; params = (name_p ∷ []); vars = ((name_v, sort.Val) ∷ []); pre = (record { opened = []; facts = ([]); locals = ((name_p, (Var 0 sort.Val)) ∷ []); items = ((Data (Number (pos 64)) (Var 0 sort.Val) (Of2 binary.Cons (Of unary.Vi (Number (pos 4))) Nil)) ∷ []) }); post = (record { opened = []; facts = ([]); locals = []; items = ((Data (Number (pos 64)) (Var 0 sort.Val) (Of2 binary.Cons (Of unary.Vi (Number (pos 4))) Nil)) ∷ []) }) }) (record { temps = (name_p ∷ []); body = (c.Then c.Skip (c.Then (c.Return (Some (c.Const 0))) c.End)) }) (s.Then 1 (s.Continue ([]) ([])) s.NoBlock s.End) ≡ (RefusedAt 1 8 1)
unfolding computing
conditions_152 = refl

conditions_153 : body_verdict (record { predicates = ([]); specs = ((record { is_void = false; name = name_f; params = (name_p ∷ []); vars = ((name_v, sort.Val) ∷ []); pre = (record { opened = []; facts = ([]); locals = ((name_p, (Var 0 sort.Val)) ∷ []); items = ((Data (Number (pos 64)) (Var 0 sort.Val) (Of2 binary.Cons (Of unary.Vi (Number (pos 4))) Nil)) ∷ []) }); post = (record { opened = []; facts = ([]); locals = []; items = ((Data (Number (pos 64)) (Var 0 sort.Val) (Of2 binary.Cons (Of unary.Vi (Number (pos 4))) Nil)) ∷ []) }) }) ∷ []) }) (record { is_void = false; name = name_f; params = (name_p ∷ []); vars = ((name_v, sort.Val) ∷ []); pre = (record { opened = []; facts = ([]); locals = ((name_p, (Var 0 sort.Val)) ∷ []); items = ((Data (Number (pos 64)) (Var 0 sort.Val) (Of2 binary.Cons (Of unary.Vi (Number (pos 4))) Nil)) ∷ []) }); post = (record { opened = []; facts = ([]); locals = []; items = ((Data (Number (pos 64)) (Var 0 sort.Val) (Of2 binary.Cons (Of unary.Vi (Number (pos 4))) Nil)) ∷ []) }) }) (record { temps = (name_p ∷ []); body = (c.Then c.Skip (c.Then (c.Return (Some (c.Const 0))) c.End)) }) (s.Then 1 (s.Break ([]) ([])) s.NoBlock s.End) ≡ (RefusedAt 1 7 1)
unfolding computing
conditions_153 = refl

conditions_154 : body_verdict (record { predicates = ([]); specs = ((record { is_void = false; name = name_f; params = (name_p ∷ []); vars = ((name_v, sort.Val) ∷ []); pre = (record { opened = []; facts = ([]); locals = ((name_p, (Var 0 sort.Val)) ∷ []); items = ((Data (Number (pos 64)) (Var 0 sort.Val) (Of2 binary.Cons (Of unary.Vi (Number (pos 4))) Nil)) ∷ []) }); post = (record { opened = []; facts = ([]); locals = []; items = ((Data (Number (pos 64)) (Var 0 sort.Val) (Of2 binary.Cons (Of unary.Vi (Number (pos 4))) Nil)) ∷ []) }) }) ∷ []) }) (record { is_void = false; name = name_f; params = (name_p ∷ []); vars = ((name_v, sort.Val) ∷ []); pre = (record { opened = []; facts = ([]); locals = ((name_p, (Var 0 sort.Val)) ∷ []); items = ((Data (Number (pos 64)) (Var 0 sort.Val) (Of2 binary.Cons (Of unary.Vi (Number (pos 4))) Nil)) ∷ []) }); post = (record { opened = []; facts = ([]); locals = []; items = ((Data (Number (pos 64)) (Var 0 sort.Val) (Of2 binary.Cons (Of unary.Vi (Number (pos 4))) Nil)) ∷ []) }) }) (record { temps = (name_p ∷ []); body = (c.Then c.Skip (c.Then (c.Return (Some (c.Const 0))) c.End)) }) (s.Then 1 (s.Block 1 (record { opened = []; facts = ([]); locals = ((name_p, (Named name_v)) ∷ []); items = ((Data (Number (pos 64)) (Named name_v) (Of2 binary.Cons (Of unary.Vi (Number (pos 4))) Nil)) ∷ []) }) ([]) ([])) (s.WithBlock (s.Then 2 s.Skip s.NoBlock (s.Then 3 (s.Fall ([]) ([])) s.NoBlock s.End)) s.NoBlock) (s.Then 4 (s.Return ([]) ([]) ([])) s.NoBlock s.End)) ≡ Accepted
unfolding computing
conditions_154 = refl

conditions_155 : body_verdict (record { predicates = ([]); specs = ((record { is_void = false; name = name_f; params = (name_p ∷ []); vars = ((name_v, sort.Val) ∷ []); pre = (record { opened = []; facts = ([]); locals = ((name_p, (Var 0 sort.Val)) ∷ []); items = ((Data (Number (pos 64)) (Var 0 sort.Val) (Of2 binary.Cons (Of unary.Vi (Number (pos 4))) Nil)) ∷ []) }); post = (record { opened = []; facts = ([]); locals = []; items = ((Data (Number (pos 64)) (Var 0 sort.Val) (Of2 binary.Cons (Of unary.Vi (Number (pos 4))) Nil)) ∷ []) }) }) ∷ []) }) (record { is_void = false; name = name_f; params = (name_p ∷ []); vars = ((name_v, sort.Val) ∷ []); pre = (record { opened = []; facts = ([]); locals = ((name_p, (Var 0 sort.Val)) ∷ []); items = ((Data (Number (pos 64)) (Var 0 sort.Val) (Of2 binary.Cons (Of unary.Vi (Number (pos 4))) Nil)) ∷ []) }); post = (record { opened = []; facts = ([]); locals = []; items = ((Data (Number (pos 64)) (Var 0 sort.Val) (Of2 binary.Cons (Of unary.Vi (Number (pos 4))) Nil)) ∷ []) }) }) (record { temps = (name_p ∷ []); body = (c.Then c.Skip (c.Then (c.Return (Some (c.Const 0))) c.End)) }) (s.Then 1 (s.Block 1 (record { opened = (sort.Val ∷ []); facts = ((Rel relation.Eq (Var 0 sort.Val) (Var 0 sort.Val)) ∷ []); locals = ((name_p, (Var 0 sort.Val)) ∷ []); items = ((Data (Number (pos 64)) (Var 0 sort.Val) (Of2 binary.Cons (Of unary.Vi (Number (pos 4))) Nil)) ∷ []) }) ([]) ([])) (s.WithBlock (s.Then 2 s.Skip s.NoBlock (s.Then 3 (s.Fall ([]) ([])) s.NoBlock s.End)) s.NoBlock) (s.Then 4 (s.Return ([]) ([]) ([])) s.NoBlock s.End)) ≡ (RefusedAt 1 11 6)
unfolding computing
conditions_155 = refl

conditions_156 : body_verdict (record { predicates = ([]); specs = ((record { is_void = false; name = name_f; params = (name_p ∷ []); vars = ((name_v, sort.Val) ∷ []); pre = (record { opened = []; facts = ([]); locals = ((name_p, (Var 0 sort.Val)) ∷ []); items = ((Data (Number (pos 64)) (Var 0 sort.Val) (Of2 binary.Cons (Of unary.Vi (Number (pos 4))) Nil)) ∷ []) }); post = (record { opened = []; facts = ([]); locals = []; items = ((Data (Number (pos 64)) (Var 0 sort.Val) (Of2 binary.Cons (Of unary.Vi (Number (pos 4))) Nil)) ∷ []) }) }) ∷ []) }) (record { is_void = false; name = name_f; params = (name_p ∷ []); vars = ((name_v, sort.Val) ∷ []); pre = (record { opened = []; facts = ([]); locals = ((name_p, (Var 0 sort.Val)) ∷ []); items = ((Data (Number (pos 64)) (Var 0 sort.Val) (Of2 binary.Cons (Of unary.Vi (Number (pos 4))) Nil)) ∷ []) }); post = (record { opened = []; facts = ([]); locals = []; items = ((Data (Number (pos 64)) (Var 0 sort.Val) (Of2 binary.Cons (Of unary.Vi (Number (pos 4))) Nil)) ∷ []) }) }) (record { temps = (name_p ∷ []); body = (c.Then c.Skip (c.Then (c.Return (Some (c.Const 0))) c.End)) }) (s.Then 1 (s.Block 1 (record { opened = []; facts = ([]); locals = ((name_p, (Named name_v)) ∷ []); items = ((Data (Number (pos 64)) (Named name_v) (Of2 binary.Cons (Of unary.Vi (Number (pos 4))) Nil)) ∷ []) }) (name_k ∷ []) ([])) (s.WithBlock (s.Then 2 s.Skip s.NoBlock (s.Then 3 (s.Fall ([]) ([])) s.NoBlock s.End)) s.NoBlock) (s.Then 4 (s.Return ([]) ([]) ([])) s.NoBlock s.End)) ≡ (RefusedAt 1 11 6)
unfolding computing
conditions_156 = refl

conditions_157 : body_verdict (record { predicates = ([]); specs = ((record { is_void = false; name = name_f; params = (name_p ∷ []); vars = ((name_v, sort.Val) ∷ []); pre = (record { opened = []; facts = ([]); locals = ((name_p, (Var 0 sort.Val)) ∷ []); items = ((Data (Number (pos 64)) (Var 0 sort.Val) (Of2 binary.Cons (Of unary.Vi (Number (pos 4))) Nil)) ∷ []) }); post = (record { opened = []; facts = ([]); locals = []; items = ((Data (Number (pos 64)) (Var 0 sort.Val) (Of2 binary.Cons (Of unary.Vi (Number (pos 4))) Nil)) ∷ []) }) }) ∷ []) }) (record { is_void = false; name = name_f; params = (name_p ∷ []); vars = ((name_v, sort.Val) ∷ []); pre = (record { opened = []; facts = ([]); locals = ((name_p, (Var 0 sort.Val)) ∷ []); items = ((Data (Number (pos 64)) (Var 0 sort.Val) (Of2 binary.Cons (Of unary.Vi (Number (pos 4))) Nil)) ∷ []) }); post = (record { opened = []; facts = ([]); locals = []; items = ((Data (Number (pos 64)) (Var 0 sort.Val) (Of2 binary.Cons (Of unary.Vi (Number (pos 4))) Nil)) ∷ []) }) }) (record { temps = (name_p ∷ []); body = (c.Then c.Skip (c.Then (c.Return (Some (c.Const 0))) c.End)) }) (s.Then 1 (s.Block 1 (record { opened = (sort.Val ∷ []); facts = ((Rel relation.Eq (Var 0 sort.Val) (Var 0 sort.Val)) ∷ []); locals = ((name_p, (Var 0 sort.Val)) ∷ []); items = ((Data (Number (pos 64)) (Var 0 sort.Val) (Of2 binary.Cons (Of unary.Vi (Number (pos 4))) Nil)) ∷ []) }) (name_k ∷ []) ([])) (s.WithBlock (s.Then 2 s.Skip s.NoBlock (s.Then 3 (s.Fall ([]) ([])) s.NoBlock s.End)) s.NoBlock) (s.Then 4 (s.Return ([]) ([]) ([])) s.NoBlock s.End)) ≡ (RefusedAt 3 10 1)
unfolding computing
conditions_157 = refl

conditions_158 : body_verdict (record { predicates = ([]); specs = ((record { is_void = false; name = name_f; params = (name_p ∷ []); vars = ((name_v, sort.Val) ∷ []); pre = (record { opened = []; facts = ([]); locals = ((name_p, (Var 0 sort.Val)) ∷ []); items = ((Data (Number (pos 64)) (Var 0 sort.Val) (Of2 binary.Cons (Of unary.Vi (Number (pos 4))) Nil)) ∷ []) }); post = (record { opened = []; facts = ([]); locals = []; items = ((Data (Number (pos 64)) (Var 0 sort.Val) (Of2 binary.Cons (Of unary.Vi (Number (pos 4))) Nil)) ∷ []) }) }) ∷ []) }) (record { is_void = false; name = name_f; params = (name_p ∷ []); vars = ((name_v, sort.Val) ∷ []); pre = (record { opened = []; facts = ([]); locals = ((name_p, (Var 0 sort.Val)) ∷ []); items = ((Data (Number (pos 64)) (Var 0 sort.Val) (Of2 binary.Cons (Of unary.Vi (Number (pos 4))) Nil)) ∷ []) }); post = (record { opened = []; facts = ([]); locals = []; items = ((Data (Number (pos 64)) (Var 0 sort.Val) (Of2 binary.Cons (Of unary.Vi (Number (pos 4))) Nil)) ∷ []) }) }) (record { temps = (name_p ∷ []); body = (c.Then c.Skip (c.Then (c.Return (Some (c.Const 0))) c.End)) }) (s.Then 1 (s.Block 1 (record { opened = []; facts = ([]); locals = ((name_p, (Named name_v)) ∷ []); items = ((Data (Number (pos 64)) (Named name_v) (Of2 binary.Cons (Of unary.Vi (Number (pos 4))) Nil)) ∷ []) }) ([]) (name_k ∷ [])) (s.WithBlock (s.Then 2 s.Skip s.NoBlock (s.Then 3 (s.Fall ([]) ([])) s.NoBlock s.End)) s.NoBlock) (s.Then 4 (s.Return ([]) ([]) ([])) s.NoBlock s.End)) ≡ (RefusedAt 1 11 6)
unfolding computing
conditions_158 = refl

conditions_159 : body_verdict (record { predicates = ([]); specs = ((record { is_void = false; name = name_f; params = (name_p ∷ []); vars = ((name_v, sort.Val) ∷ []); pre = (record { opened = []; facts = ([]); locals = ((name_p, (Var 0 sort.Val)) ∷ []); items = ((Data (Number (pos 64)) (Var 0 sort.Val) (Of2 binary.Cons (Of unary.Vi (Number (pos 4))) Nil)) ∷ []) }); post = (record { opened = []; facts = ([]); locals = []; items = ((Data (Number (pos 64)) (Var 0 sort.Val) (Of2 binary.Cons (Of unary.Vi (Number (pos 4))) Nil)) ∷ []) }) }) ∷ []) }) (record { is_void = false; name = name_f; params = (name_p ∷ []); vars = ((name_v, sort.Val) ∷ []); pre = (record { opened = []; facts = ([]); locals = ((name_p, (Var 0 sort.Val)) ∷ []); items = ((Data (Number (pos 64)) (Var 0 sort.Val) (Of2 binary.Cons (Of unary.Vi (Number (pos 4))) Nil)) ∷ []) }); post = (record { opened = []; facts = ([]); locals = []; items = ((Data (Number (pos 64)) (Var 0 sort.Val) (Of2 binary.Cons (Of unary.Vi (Number (pos 4))) Nil)) ∷ []) }) }) (record { temps = (name_p ∷ []); body = (c.Then c.Skip (c.Then (c.Return (Some (c.Const 0))) c.End)) }) (s.Then 1 (s.Block 1 (record { opened = (sort.Val ∷ []); facts = ((Rel relation.Eq (Var 0 sort.Val) (Var 0 sort.Val)) ∷ []); locals = ((name_p, (Var 0 sort.Val)) ∷ []); items = ((Data (Number (pos 64)) (Var 0 sort.Val) (Of2 binary.Cons (Of unary.Vi (Number (pos 4))) Nil)) ∷ []) }) ([]) (name_k ∷ [])) (s.WithBlock (s.Then 2 s.Skip s.NoBlock (s.Then 3 (s.Fall ([]) ([])) s.NoBlock s.End)) s.NoBlock) (s.Then 4 (s.Return ([]) ([]) ([])) s.NoBlock s.End)) ≡ (RefusedAt 1 11 6)
unfolding computing
conditions_159 = refl

conditions_160 : body_verdict (record { predicates = ([]); specs = ((record { is_void = false; name = name_f; params = (name_p ∷ []); vars = ((name_v, sort.Val) ∷ []); pre = (record { opened = []; facts = ([]); locals = ((name_p, (Var 0 sort.Val)) ∷ []); items = ((Data (Number (pos 64)) (Var 0 sort.Val) (Of2 binary.Cons (Of unary.Vi (Number (pos 4))) Nil)) ∷ []) }); post = (record { opened = []; facts = ([]); locals = []; items = ((Data (Number (pos 64)) (Var 0 sort.Val) (Of2 binary.Cons (Of unary.Vi (Number (pos 4))) Nil)) ∷ []) }) }) ∷ []) }) (record { is_void = false; name = name_f; params = (name_p ∷ []); vars = ((name_v, sort.Val) ∷ []); pre = (record { opened = []; facts = ([]); locals = ((name_p, (Var 0 sort.Val)) ∷ []); items = ((Data (Number (pos 64)) (Var 0 sort.Val) (Of2 binary.Cons (Of unary.Vi (Number (pos 4))) Nil)) ∷ []) }); post = (record { opened = []; facts = ([]); locals = []; items = ((Data (Number (pos 64)) (Var 0 sort.Val) (Of2 binary.Cons (Of unary.Vi (Number (pos 4))) Nil)) ∷ []) }) }) (record { temps = (name_p ∷ []); body = (c.Then c.Skip (c.Then (c.Return (Some (c.Const 0))) c.End)) }) (s.Then 1 (s.Block 1 (record { opened = []; facts = ([]); locals = ((name_p, (Named name_v)) ∷ []); items = ((Data (Number (pos 64)) (Named name_v) (Of2 binary.Cons (Of unary.Vi (Number (pos 4))) Nil)) ∷ []) }) ([]) ([])) (s.WithBlock (s.Then 2 s.Skip s.NoBlock (s.Then 3 (s.Fall ((Named name_v) ∷ []) ([])) s.NoBlock s.End)) s.NoBlock) (s.Then 4 (s.Return ([]) ([]) ([])) s.NoBlock s.End)) ≡ (RefusedAt 3 10 1)
unfolding computing
conditions_160 = refl

conditions_161 : body_verdict (record { predicates = ([]); specs = ((record { is_void = false; name = name_f; params = (name_p ∷ []); vars = ((name_v, sort.Val) ∷ []); pre = (record { opened = []; facts = ([]); locals = ((name_p, (Var 0 sort.Val)) ∷ []); items = ((Data (Number (pos 64)) (Var 0 sort.Val) (Of2 binary.Cons (Of unary.Vi (Number (pos 4))) Nil)) ∷ []) }); post = (record { opened = []; facts = ([]); locals = []; items = ((Data (Number (pos 64)) (Var 0 sort.Val) (Of2 binary.Cons (Of unary.Vi (Number (pos 4))) Nil)) ∷ []) }) }) ∷ []) }) (record { is_void = false; name = name_f; params = (name_p ∷ []); vars = ((name_v, sort.Val) ∷ []); pre = (record { opened = []; facts = ([]); locals = ((name_p, (Var 0 sort.Val)) ∷ []); items = ((Data (Number (pos 64)) (Var 0 sort.Val) (Of2 binary.Cons (Of unary.Vi (Number (pos 4))) Nil)) ∷ []) }); post = (record { opened = []; facts = ([]); locals = []; items = ((Data (Number (pos 64)) (Var 0 sort.Val) (Of2 binary.Cons (Of unary.Vi (Number (pos 4))) Nil)) ∷ []) }) }) (record { temps = (name_p ∷ []); body = (c.Then c.Skip (c.Then (c.Return (Some (c.Const 0))) c.End)) }) (s.Then 1 (s.Block 1 (record { opened = (sort.Val ∷ []); facts = ((Rel relation.Eq (Var 0 sort.Val) (Var 0 sort.Val)) ∷ []); locals = ((name_p, (Var 0 sort.Val)) ∷ []); items = ((Data (Number (pos 64)) (Var 0 sort.Val) (Of2 binary.Cons (Of unary.Vi (Number (pos 4))) Nil)) ∷ []) }) ([]) ([])) (s.WithBlock (s.Then 2 s.Skip s.NoBlock (s.Then 3 (s.Fall ((Named name_v) ∷ []) ([])) s.NoBlock s.End)) s.NoBlock) (s.Then 4 (s.Return ([]) ([]) ([])) s.NoBlock s.End)) ≡ (RefusedAt 1 11 6)
unfolding computing
conditions_161 = refl

conditions_162 : body_verdict (record { predicates = ([]); specs = ((record { is_void = false; name = name_f; params = (name_p ∷ []); vars = ((name_v, sort.Val) ∷ []); pre = (record { opened = []; facts = ([]); locals = ((name_p, (Var 0 sort.Val)) ∷ []); items = ((Data (Number (pos 64)) (Var 0 sort.Val) (Of2 binary.Cons (Of unary.Vi (Number (pos 4))) Nil)) ∷ []) }); post = (record { opened = []; facts = ([]); locals = []; items = ((Data (Number (pos 64)) (Var 0 sort.Val) (Of2 binary.Cons (Of unary.Vi (Number (pos 4))) Nil)) ∷ []) }) }) ∷ []) }) (record { is_void = false; name = name_f; params = (name_p ∷ []); vars = ((name_v, sort.Val) ∷ []); pre = (record { opened = []; facts = ([]); locals = ((name_p, (Var 0 sort.Val)) ∷ []); items = ((Data (Number (pos 64)) (Var 0 sort.Val) (Of2 binary.Cons (Of unary.Vi (Number (pos 4))) Nil)) ∷ []) }); post = (record { opened = []; facts = ([]); locals = []; items = ((Data (Number (pos 64)) (Var 0 sort.Val) (Of2 binary.Cons (Of unary.Vi (Number (pos 4))) Nil)) ∷ []) }) }) (record { temps = (name_p ∷ []); body = (c.Then c.Skip (c.Then (c.Return (Some (c.Const 0))) c.End)) }) (s.Then 1 (s.Block 2 (record { opened = []; facts = ([]); locals = ((name_p, (Named name_v)) ∷ []); items = ((Data (Number (pos 64)) (Named name_v) (Of2 binary.Cons (Of unary.Vi (Number (pos 4))) Nil)) ∷ []) }) ([]) ([])) (s.WithBlock (s.Then 2 s.Skip s.NoBlock (s.Then 3 (s.Return ([]) ([]) ([])) s.NoBlock s.End)) s.NoBlock) (s.Then 4 (s.Fall ([]) ([])) s.NoBlock s.End)) ≡ (RefusedAt 4 10 1)
unfolding computing
conditions_162 = refl

conditions_163 : body_verdict (record { predicates = ([]); specs = ((record { is_void = false; name = name_f; params = (name_p ∷ []); vars = ((name_v, sort.Val) ∷ []); pre = (record { opened = []; facts = ([]); locals = ((name_p, (Var 0 sort.Val)) ∷ []); items = ((Data (Number (pos 64)) (Var 0 sort.Val) (Of2 binary.Cons (Of unary.Vi (Number (pos 4))) Nil)) ∷ []) }); post = (record { opened = []; facts = ([]); locals = []; items = ((Data (Number (pos 64)) (Var 0 sort.Val) (Of2 binary.Cons (Of unary.Vi (Number (pos 4))) Nil)) ∷ []) }) }) ∷ []) }) (record { is_void = false; name = name_f; params = (name_p ∷ []); vars = ((name_v, sort.Val) ∷ []); pre = (record { opened = []; facts = ([]); locals = ((name_p, (Var 0 sort.Val)) ∷ []); items = ((Data (Number (pos 64)) (Var 0 sort.Val) (Of2 binary.Cons (Of unary.Vi (Number (pos 4))) Nil)) ∷ []) }); post = (record { opened = []; facts = ([]); locals = []; items = ((Data (Number (pos 64)) (Var 0 sort.Val) (Of2 binary.Cons (Of unary.Vi (Number (pos 4))) Nil)) ∷ []) }) }) (record { temps = (name_p ∷ []); body = (c.Then c.Skip (c.Then (c.Return (Some (c.Const 0))) c.End)) }) (s.Then 1 (s.Block 2 (record { opened = (sort.Val ∷ []); facts = ((Rel relation.Eq (Var 0 sort.Val) (Var 0 sort.Val)) ∷ []); locals = ((name_p, (Var 0 sort.Val)) ∷ []); items = ((Data (Number (pos 64)) (Var 0 sort.Val) (Of2 binary.Cons (Of unary.Vi (Number (pos 4))) Nil)) ∷ []) }) ([]) ([])) (s.WithBlock (s.Then 2 s.Skip s.NoBlock (s.Then 3 (s.Return ([]) ([]) ([])) s.NoBlock s.End)) s.NoBlock) (s.Then 4 (s.Fall ([]) ([])) s.NoBlock s.End)) ≡ (RefusedAt 1 11 6)
unfolding computing
conditions_163 = refl

conditions_164 : body_verdict (record { predicates = ([]); specs = ((record { is_void = false; name = name_f; params = (name_p ∷ []); vars = ((name_v, sort.Val) ∷ []); pre = (record { opened = []; facts = ([]); locals = ((name_p, (Var 0 sort.Val)) ∷ []); items = ((Data (Number (pos 64)) (Var 0 sort.Val) (Of2 binary.Cons (Of unary.Vi (Number (pos 4))) Nil)) ∷ []) }); post = (record { opened = []; facts = ([]); locals = []; items = ((Data (Number (pos 64)) (Var 0 sort.Val) (Of2 binary.Cons (Of unary.Vi (Number (pos 4))) Nil)) ∷ []) }) }) ∷ []) }) (record { is_void = false; name = name_f; params = (name_p ∷ []); vars = ((name_v, sort.Val) ∷ []); pre = (record { opened = []; facts = ([]); locals = ((name_p, (Var 0 sort.Val)) ∷ []); items = ((Data (Number (pos 64)) (Var 0 sort.Val) (Of2 binary.Cons (Of unary.Vi (Number (pos 4))) Nil)) ∷ []) }); post = (record { opened = []; facts = ([]); locals = []; items = ((Data (Number (pos 64)) (Var 0 sort.Val) (Of2 binary.Cons (Of unary.Vi (Number (pos 4))) Nil)) ∷ []) }) }) (record { temps = (name_p ∷ []); body = (c.Then c.Skip (c.Then (c.Return (Some (c.Const 0))) c.End)) }) (s.Then 1 (s.Block 3 (record { opened = []; facts = ([]); locals = ((name_p, (Named name_v)) ∷ []); items = ((Data (Number (pos 64)) (Named name_v) (Of2 binary.Cons (Of unary.Vi (Number (pos 4))) Nil)) ∷ []) }) ([]) ([])) (s.WithBlock (s.Then 2 s.Skip s.NoBlock (s.Then 3 (s.Fall ([]) ([])) s.NoBlock s.End)) s.NoBlock) (s.Then 4 (s.Return ([]) ([]) ([])) s.NoBlock s.End)) ≡ (RefusedAt 1 11 1)
unfolding computing
conditions_164 = refl

conditions_165 : body_verdict (record { predicates = ([]); specs = ((record { is_void = false; name = name_f; params = (name_p ∷ []); vars = ((name_v, sort.Val) ∷ []); pre = (record { opened = []; facts = ([]); locals = ((name_p, (Var 0 sort.Val)) ∷ []); items = ((Data (Number (pos 64)) (Var 0 sort.Val) (Of2 binary.Cons (Of unary.Vi (Number (pos 4))) Nil)) ∷ []) }); post = (record { opened = []; facts = ([]); locals = []; items = ((Data (Number (pos 64)) (Var 0 sort.Val) (Of2 binary.Cons (Of unary.Vi (Number (pos 4))) Nil)) ∷ []) }) }) ∷ []) }) (record { is_void = false; name = name_f; params = (name_p ∷ []); vars = ((name_v, sort.Val) ∷ []); pre = (record { opened = []; facts = ([]); locals = ((name_p, (Var 0 sort.Val)) ∷ []); items = ((Data (Number (pos 64)) (Var 0 sort.Val) (Of2 binary.Cons (Of unary.Vi (Number (pos 4))) Nil)) ∷ []) }); post = (record { opened = []; facts = ([]); locals = []; items = ((Data (Number (pos 64)) (Var 0 sort.Val) (Of2 binary.Cons (Of unary.Vi (Number (pos 4))) Nil)) ∷ []) }) }) (record { temps = (name_p ∷ []); body = (c.Then c.Skip (c.Then (c.Return (Some (c.Const 0))) c.End)) }) (s.Then 1 (s.Block 3 (record { opened = (sort.Val ∷ []); facts = ((Rel relation.Eq (Var 0 sort.Val) (Var 0 sort.Val)) ∷ []); locals = ((name_p, (Var 0 sort.Val)) ∷ []); items = ((Data (Number (pos 64)) (Var 0 sort.Val) (Of2 binary.Cons (Of unary.Vi (Number (pos 4))) Nil)) ∷ []) }) ([]) ([])) (s.WithBlock (s.Then 2 s.Skip s.NoBlock (s.Then 3 (s.Fall ([]) ([])) s.NoBlock s.End)) s.NoBlock) (s.Then 4 (s.Return ([]) ([]) ([])) s.NoBlock s.End)) ≡ (RefusedAt 1 11 1)
unfolding computing
conditions_165 = refl

conditions_166 : body_verdict (record { predicates = ([]); specs = ((record { is_void = false; name = name_f; params = (name_p ∷ []); vars = ((name_v, sort.Val) ∷ []); pre = (record { opened = []; facts = ([]); locals = ((name_p, (Var 0 sort.Val)) ∷ []); items = ((Data (Number (pos 64)) (Var 0 sort.Val) (Of2 binary.Cons (Of unary.Vi (Number (pos 4))) Nil)) ∷ []) }); post = (record { opened = []; facts = ([]); locals = []; items = ((Data (Number (pos 64)) (Var 0 sort.Val) (Of2 binary.Cons (Of unary.Vi (Number (pos 4))) Nil)) ∷ []) }) }) ∷ []) }) (record { is_void = false; name = name_f; params = (name_p ∷ []); vars = ((name_v, sort.Val) ∷ []); pre = (record { opened = []; facts = ([]); locals = ((name_p, (Var 0 sort.Val)) ∷ []); items = ((Data (Number (pos 64)) (Var 0 sort.Val) (Of2 binary.Cons (Of unary.Vi (Number (pos 4))) Nil)) ∷ []) }); post = (record { opened = []; facts = ([]); locals = []; items = ((Data (Number (pos 64)) (Var 0 sort.Val) (Of2 binary.Cons (Of unary.Vi (Number (pos 4))) Nil)) ∷ []) }) }) (record { temps = (name_p ∷ []); body = (c.Then c.Skip (c.Then (c.Return (Some (c.Const 0))) c.End)) }) (s.Then 1 (s.Block 0 (record { opened = []; facts = ([]); locals = ((name_p, (Named name_v)) ∷ []); items = ((Data (Number (pos 64)) (Named name_v) (Of2 binary.Cons (Of unary.Vi (Number (pos 4))) Nil)) ∷ []) }) ([]) ([])) (s.WithBlock (s.Then 2 (s.Fall ([]) ([])) s.NoBlock s.End) s.NoBlock) (s.Then 3 s.Skip s.NoBlock (s.Then 4 (s.Return ([]) ([]) ([])) s.NoBlock s.End))) ≡ Accepted
unfolding computing
conditions_166 = refl

conditions_167 : body_verdict (record { predicates = ([]); specs = ((record { is_void = false; name = name_f; params = (name_p ∷ []); vars = ((name_v, sort.Val) ∷ []); pre = (record { opened = []; facts = ([]); locals = ((name_p, (Var 0 sort.Val)) ∷ []); items = ((Data (Number (pos 64)) (Var 0 sort.Val) (Of2 binary.Cons (Of unary.Vi (Number (pos 4))) Nil)) ∷ []) }); post = (record { opened = []; facts = ([]); locals = []; items = ((Data (Number (pos 64)) (Var 0 sort.Val) (Of2 binary.Cons (Of unary.Vi (Number (pos 4))) Nil)) ∷ []) }) }) ∷ []) }) (record { is_void = false; name = name_f; params = (name_p ∷ []); vars = ((name_v, sort.Val) ∷ []); pre = (record { opened = []; facts = ([]); locals = ((name_p, (Var 0 sort.Val)) ∷ []); items = ((Data (Number (pos 64)) (Var 0 sort.Val) (Of2 binary.Cons (Of unary.Vi (Number (pos 4))) Nil)) ∷ []) }); post = (record { opened = []; facts = ([]); locals = []; items = ((Data (Number (pos 64)) (Var 0 sort.Val) (Of2 binary.Cons (Of unary.Vi (Number (pos 4))) Nil)) ∷ []) }) }) (record { temps = (name_p ∷ []); body = (c.Then c.Skip (c.Then (c.Return (Some (c.Const 0))) c.End)) }) (s.Then 1 (s.Block 0 (record { opened = (sort.Val ∷ []); facts = ((Rel relation.Eq (Var 0 sort.Val) (Var 0 sort.Val)) ∷ []); locals = ((name_p, (Var 0 sort.Val)) ∷ []); items = ((Data (Number (pos 64)) (Var 0 sort.Val) (Of2 binary.Cons (Of unary.Vi (Number (pos 4))) Nil)) ∷ []) }) ([]) ([])) (s.WithBlock (s.Then 2 (s.Fall ([]) ([])) s.NoBlock s.End) s.NoBlock) (s.Then 3 s.Skip s.NoBlock (s.Then 4 (s.Return ([]) ([]) ([])) s.NoBlock s.End))) ≡ (RefusedAt 1 11 6)
unfolding computing
conditions_167 = refl

conditions_168 : body_verdict (record { predicates = ([]); specs = ((record { is_void = false; name = name_f; params = (name_p ∷ []); vars = ((name_v, sort.Val) ∷ []); pre = (record { opened = []; facts = ([]); locals = ((name_p, (Var 0 sort.Val)) ∷ []); items = ((Data (Number (pos 64)) (Var 0 sort.Val) (Of2 binary.Cons (Of unary.Vi (Number (pos 4))) Nil)) ∷ []) }); post = (record { opened = []; facts = ([]); locals = []; items = ((Data (Number (pos 64)) (Var 0 sort.Val) (Of2 binary.Cons (Of unary.Vi (Number (pos 4))) Nil)) ∷ []) }) }) ∷ []) }) (record { is_void = false; name = name_f; params = (name_p ∷ []); vars = ((name_v, sort.Val) ∷ []); pre = (record { opened = []; facts = ([]); locals = ((name_p, (Var 0 sort.Val)) ∷ []); items = ((Data (Number (pos 64)) (Var 0 sort.Val) (Of2 binary.Cons (Of unary.Vi (Number (pos 4))) Nil)) ∷ []) }); post = (record { opened = []; facts = ([]); locals = []; items = ((Data (Number (pos 64)) (Var 0 sort.Val) (Of2 binary.Cons (Of unary.Vi (Number (pos 4))) Nil)) ∷ []) }) }) (record { temps = (name_p ∷ []); body = (c.Then c.Skip (c.Then (c.Return (Some (c.Const 0))) c.End)) }) (s.Then 1 (s.Block 1 (record { opened = []; facts = ([]); locals = ((name_p, (Named name_v)) ∷ []); items = ((Data (Number (pos 64)) (Named name_v) (Of2 binary.Cons (Of unary.Vi (Number (pos 4))) Nil)) ∷ []) }) ([]) ([])) (s.WithBlock (s.Then 2 s.Skip s.NoBlock (s.Then 3 (s.Share 0 (Number (pos 32)) ([])) s.NoBlock (s.Then 4 (s.Fall ([]) ([])) s.NoBlock s.End))) s.NoBlock) (s.Then 5 (s.Return ([]) ([]) ([])) s.NoBlock s.End)) ≡ (RefusedAt 4 10 5)
unfolding computing
conditions_168 = refl

conditions_169 : body_verdict (record { predicates = ([]); specs = ((record { is_void = false; name = name_f; params = (name_p ∷ []); vars = ((name_v, sort.Val) ∷ []); pre = (record { opened = []; facts = ([]); locals = ((name_p, (Var 0 sort.Val)) ∷ []); items = ((Data (Number (pos 64)) (Var 0 sort.Val) (Of2 binary.Cons (Of unary.Vi (Number (pos 4))) Nil)) ∷ []) }); post = (record { opened = []; facts = ([]); locals = []; items = ((Data (Number (pos 64)) (Var 0 sort.Val) (Of2 binary.Cons (Of unary.Vi (Number (pos 4))) Nil)) ∷ []) }) }) ∷ []) }) (record { is_void = false; name = name_f; params = (name_p ∷ []); vars = ((name_v, sort.Val) ∷ []); pre = (record { opened = []; facts = ([]); locals = ((name_p, (Var 0 sort.Val)) ∷ []); items = ((Data (Number (pos 64)) (Var 0 sort.Val) (Of2 binary.Cons (Of unary.Vi (Number (pos 4))) Nil)) ∷ []) }); post = (record { opened = []; facts = ([]); locals = []; items = ((Data (Number (pos 64)) (Var 0 sort.Val) (Of2 binary.Cons (Of unary.Vi (Number (pos 4))) Nil)) ∷ []) }) }) (record { temps = (name_p ∷ []); body = (c.Then c.Skip (c.Then (c.Return (Some (c.Const 0))) c.End)) }) (s.Then 1 (s.Block 1 (record { opened = (sort.Val ∷ []); facts = ((Rel relation.Eq (Var 0 sort.Val) (Var 0 sort.Val)) ∷ []); locals = ((name_p, (Var 0 sort.Val)) ∷ []); items = ((Data (Number (pos 64)) (Var 0 sort.Val) (Of2 binary.Cons (Of unary.Vi (Number (pos 4))) Nil)) ∷ []) }) ([]) ([])) (s.WithBlock (s.Then 2 s.Skip s.NoBlock (s.Then 3 (s.Share 0 (Number (pos 32)) ([])) s.NoBlock (s.Then 4 (s.Fall ([]) ([])) s.NoBlock s.End))) s.NoBlock) (s.Then 5 (s.Return ([]) ([]) ([])) s.NoBlock s.End)) ≡ (RefusedAt 1 11 6)
unfolding computing
conditions_169 = refl

conditions_170 : body_verdict (record { predicates = ([]); specs = ((record { is_void = false; name = name_f; params = (name_p ∷ []); vars = ((name_v, sort.Val) ∷ []); pre = (record { opened = []; facts = ([]); locals = ((name_p, (Var 0 sort.Val)) ∷ []); items = ((Data (Number (pos 64)) (Var 0 sort.Val) (Of2 binary.Cons (Of unary.Vi (Number (pos 4))) Nil)) ∷ []) }); post = (record { opened = []; facts = ([]); locals = []; items = ((Data (Number (pos 64)) (Var 0 sort.Val) (Of2 binary.Cons (Of unary.Vi (Number (pos 4))) Nil)) ∷ []) }) }) ∷ []) }) (record { is_void = false; name = name_f; params = (name_p ∷ []); vars = ((name_v, sort.Val) ∷ []); pre = (record { opened = []; facts = ([]); locals = ((name_p, (Var 0 sort.Val)) ∷ []); items = ((Data (Number (pos 64)) (Var 0 sort.Val) (Of2 binary.Cons (Of unary.Vi (Number (pos 4))) Nil)) ∷ []) }); post = (record { opened = []; facts = ([]); locals = []; items = ((Data (Number (pos 64)) (Var 0 sort.Val) (Of2 binary.Cons (Of unary.Vi (Number (pos 4))) Nil)) ∷ []) }) }) (record { temps = (name_p ∷ []); body = (c.Then c.Skip (c.Then (c.Return (Some (c.Const 0))) c.End)) }) (s.Then 1 (s.Block 1 (record { opened = []; facts = ([]); locals = ((name_p, (Named name_v)) ∷ []); items = ((Data (Number (pos 64)) (Named name_v) (Of2 binary.Cons (Of unary.Vi (Number (pos 4))) Nil)) ∷ []) }) ([]) ([])) (s.WithBlock (s.Then 2 s.Skip s.NoBlock (s.Then 3 (s.Forget (forgotten.Local name_p)) s.NoBlock (s.Then 4 (s.Fall ([]) ([])) s.NoBlock s.End))) s.NoBlock) (s.Then 5 (s.Return ([]) ([]) ([])) s.NoBlock s.End)) ≡ (RefusedAt 4 10 4)
unfolding computing
conditions_170 = refl

conditions_171 : body_verdict (record { predicates = ([]); specs = ((record { is_void = false; name = name_f; params = (name_p ∷ []); vars = ((name_v, sort.Val) ∷ []); pre = (record { opened = []; facts = ([]); locals = ((name_p, (Var 0 sort.Val)) ∷ []); items = ((Data (Number (pos 64)) (Var 0 sort.Val) (Of2 binary.Cons (Of unary.Vi (Number (pos 4))) Nil)) ∷ []) }); post = (record { opened = []; facts = ([]); locals = []; items = ((Data (Number (pos 64)) (Var 0 sort.Val) (Of2 binary.Cons (Of unary.Vi (Number (pos 4))) Nil)) ∷ []) }) }) ∷ []) }) (record { is_void = false; name = name_f; params = (name_p ∷ []); vars = ((name_v, sort.Val) ∷ []); pre = (record { opened = []; facts = ([]); locals = ((name_p, (Var 0 sort.Val)) ∷ []); items = ((Data (Number (pos 64)) (Var 0 sort.Val) (Of2 binary.Cons (Of unary.Vi (Number (pos 4))) Nil)) ∷ []) }); post = (record { opened = []; facts = ([]); locals = []; items = ((Data (Number (pos 64)) (Var 0 sort.Val) (Of2 binary.Cons (Of unary.Vi (Number (pos 4))) Nil)) ∷ []) }) }) (record { temps = (name_p ∷ []); body = (c.Then c.Skip (c.Then (c.Return (Some (c.Const 0))) c.End)) }) (s.Then 1 (s.Block 1 (record { opened = (sort.Val ∷ []); facts = ((Rel relation.Eq (Var 0 sort.Val) (Var 0 sort.Val)) ∷ []); locals = ((name_p, (Var 0 sort.Val)) ∷ []); items = ((Data (Number (pos 64)) (Var 0 sort.Val) (Of2 binary.Cons (Of unary.Vi (Number (pos 4))) Nil)) ∷ []) }) ([]) ([])) (s.WithBlock (s.Then 2 s.Skip s.NoBlock (s.Then 3 (s.Forget (forgotten.Local name_p)) s.NoBlock (s.Then 4 (s.Fall ([]) ([])) s.NoBlock s.End))) s.NoBlock) (s.Then 5 (s.Return ([]) ([]) ([])) s.NoBlock s.End)) ≡ (RefusedAt 1 11 6)
unfolding computing
conditions_171 = refl

conditions_172 : body_verdict (record { predicates = ([]); specs = ((record { is_void = false; name = name_f; params = (name_p ∷ []); vars = ((name_v, sort.Val) ∷ []); pre = (record { opened = []; facts = ([]); locals = ((name_p, (Var 0 sort.Val)) ∷ []); items = ((Data (Number (pos 64)) (Var 0 sort.Val) (Of2 binary.Cons (Of unary.Vi (Number (pos 4))) Nil)) ∷ []) }); post = (record { opened = []; facts = ([]); locals = []; items = ((Data (Number (pos 64)) (Var 0 sort.Val) (Of2 binary.Cons (Of unary.Vi (Number (pos 4))) Nil)) ∷ []) }) }) ∷ []) }) (record { is_void = false; name = name_f; params = (name_p ∷ []); vars = ((name_v, sort.Val) ∷ []); pre = (record { opened = []; facts = ([]); locals = ((name_p, (Var 0 sort.Val)) ∷ []); items = ((Data (Number (pos 64)) (Var 0 sort.Val) (Of2 binary.Cons (Of unary.Vi (Number (pos 4))) Nil)) ∷ []) }); post = (record { opened = []; facts = ([]); locals = []; items = ((Data (Number (pos 64)) (Var 0 sort.Val) (Of2 binary.Cons (Of unary.Vi (Number (pos 4))) Nil)) ∷ []) }) }) (record { temps = (name_p ∷ []); body = (c.Then c.Skip (c.Then (c.Return (Some (c.Const 0))) c.End)) }) (s.Then 1 (s.Block 1 (record { opened = []; facts = ([]); locals = ((name_p, (Named name_v)) ∷ []); items = ((Data (Number (pos 64)) (Named name_v) (Of2 binary.Cons (Of unary.Vi (Number (pos 4))) Nil)) ∷ []) }) ([]) ([])) (s.WithBlock (s.Then 2 (s.Fall ([]) ([])) s.NoBlock s.End) s.NoBlock) (s.Then 3 (s.Return ([]) ([]) ([])) s.NoBlock s.End)) ≡ (RefusedAt 2 10 1)
unfolding computing
conditions_172 = refl

conditions_173 : body_verdict (record { predicates = ([]); specs = ((record { is_void = false; name = name_f; params = (name_p ∷ []); vars = ((name_v, sort.Val) ∷ []); pre = (record { opened = []; facts = ([]); locals = ((name_p, (Var 0 sort.Val)) ∷ []); items = ((Data (Number (pos 64)) (Var 0 sort.Val) (Of2 binary.Cons (Of unary.Vi (Number (pos 4))) Nil)) ∷ []) }); post = (record { opened = []; facts = ([]); locals = []; items = ((Data (Number (pos 64)) (Var 0 sort.Val) (Of2 binary.Cons (Of unary.Vi (Number (pos 4))) Nil)) ∷ []) }) }) ∷ []) }) (record { is_void = false; name = name_f; params = (name_p ∷ []); vars = ((name_v, sort.Val) ∷ []); pre = (record { opened = []; facts = ([]); locals = ((name_p, (Var 0 sort.Val)) ∷ []); items = ((Data (Number (pos 64)) (Var 0 sort.Val) (Of2 binary.Cons (Of unary.Vi (Number (pos 4))) Nil)) ∷ []) }); post = (record { opened = []; facts = ([]); locals = []; items = ((Data (Number (pos 64)) (Var 0 sort.Val) (Of2 binary.Cons (Of unary.Vi (Number (pos 4))) Nil)) ∷ []) }) }) (record { temps = (name_p ∷ []); body = (c.Then c.Skip (c.Then (c.Return (Some (c.Const 0))) c.End)) }) (s.Then 1 (s.Block 1 (record { opened = (sort.Val ∷ []); facts = ((Rel relation.Eq (Var 0 sort.Val) (Var 0 sort.Val)) ∷ []); locals = ((name_p, (Var 0 sort.Val)) ∷ []); items = ((Data (Number (pos 64)) (Var 0 sort.Val) (Of2 binary.Cons (Of unary.Vi (Number (pos 4))) Nil)) ∷ []) }) ([]) ([])) (s.WithBlock (s.Then 2 (s.Fall ([]) ([])) s.NoBlock s.End) s.NoBlock) (s.Then 3 (s.Return ([]) ([]) ([])) s.NoBlock s.End)) ≡ (RefusedAt 1 11 6)
unfolding computing
conditions_173 = refl

conditions_174 : body_verdict (record { predicates = ([]); specs = ((record { is_void = false; name = name_f; params = (name_p ∷ []); vars = ((name_v, sort.Val) ∷ []); pre = (record { opened = []; facts = ([]); locals = ((name_p, (Var 0 sort.Val)) ∷ []); items = ((Data (Number (pos 64)) (Var 0 sort.Val) (Of2 binary.Cons (Of unary.Vi (Number (pos 4))) Nil)) ∷ []) }); post = (record { opened = []; facts = ([]); locals = []; items = ((Data (Number (pos 64)) (Var 0 sort.Val) (Of2 binary.Cons (Of unary.Vi (Number (pos 4))) Nil)) ∷ []) }) }) ∷ []) }) (record { is_void = false; name = name_f; params = (name_p ∷ []); vars = ((name_v, sort.Val) ∷ []); pre = (record { opened = []; facts = ([]); locals = ((name_p, (Var 0 sort.Val)) ∷ []); items = ((Data (Number (pos 64)) (Var 0 sort.Val) (Of2 binary.Cons (Of unary.Vi (Number (pos 4))) Nil)) ∷ []) }); post = (record { opened = []; facts = ([]); locals = []; items = ((Data (Number (pos 64)) (Var 0 sort.Val) (Of2 binary.Cons (Of unary.Vi (Number (pos 4))) Nil)) ∷ []) }) }) (record { temps = (name_p ∷ []); body = (c.Then c.Skip (c.Then (c.Return (Some (c.Const 0))) c.End)) }) (s.Then 1 (s.Block 1 (record { opened = []; facts = ([]); locals = ((name_p, (Named name_v)) ∷ []); items = ((Data (Number (pos 64)) (Named name_v) (Of2 binary.Cons (Of unary.Vi (Number (pos 4))) Nil)) ∷ []) }) ([]) ([])) (s.WithBlock (s.Then 2 s.Skip s.NoBlock (s.Then 3 (s.Meet ([]) ([])) s.NoBlock s.End)) s.NoBlock) (s.Then 4 (s.Return ([]) ([]) ([])) s.NoBlock s.End)) ≡ (RefusedAt 3 37 1)
unfolding computing
conditions_174 = refl

conditions_175 : body_verdict (record { predicates = ([]); specs = ((record { is_void = false; name = name_f; params = (name_p ∷ []); vars = ((name_v, sort.Val) ∷ []); pre = (record { opened = []; facts = ([]); locals = ((name_p, (Var 0 sort.Val)) ∷ []); items = ((Data (Number (pos 64)) (Var 0 sort.Val) (Of2 binary.Cons (Of unary.Vi (Number (pos 4))) Nil)) ∷ []) }); post = (record { opened = []; facts = ([]); locals = []; items = ((Data (Number (pos 64)) (Var 0 sort.Val) (Of2 binary.Cons (Of unary.Vi (Number (pos 4))) Nil)) ∷ []) }) }) ∷ []) }) (record { is_void = false; name = name_f; params = (name_p ∷ []); vars = ((name_v, sort.Val) ∷ []); pre = (record { opened = []; facts = ([]); locals = ((name_p, (Var 0 sort.Val)) ∷ []); items = ((Data (Number (pos 64)) (Var 0 sort.Val) (Of2 binary.Cons (Of unary.Vi (Number (pos 4))) Nil)) ∷ []) }); post = (record { opened = []; facts = ([]); locals = []; items = ((Data (Number (pos 64)) (Var 0 sort.Val) (Of2 binary.Cons (Of unary.Vi (Number (pos 4))) Nil)) ∷ []) }) }) (record { temps = (name_p ∷ []); body = (c.Then c.Skip (c.Then (c.Return (Some (c.Const 0))) c.End)) }) (s.Then 1 (s.Block 1 (record { opened = (sort.Val ∷ []); facts = ((Rel relation.Eq (Var 0 sort.Val) (Var 0 sort.Val)) ∷ []); locals = ((name_p, (Var 0 sort.Val)) ∷ []); items = ((Data (Number (pos 64)) (Var 0 sort.Val) (Of2 binary.Cons (Of unary.Vi (Number (pos 4))) Nil)) ∷ []) }) ([]) ([])) (s.WithBlock (s.Then 2 s.Skip s.NoBlock (s.Then 3 (s.Meet ([]) ([])) s.NoBlock s.End)) s.NoBlock) (s.Then 4 (s.Return ([]) ([]) ([])) s.NoBlock s.End)) ≡ (RefusedAt 1 11 6)
unfolding computing
conditions_175 = refl

conditions_176 : body_verdict (record { predicates = ([]); specs = ((record { is_void = false; name = name_f; params = (name_p ∷ []); vars = ((name_v, sort.Val) ∷ []); pre = (record { opened = []; facts = ([]); locals = ((name_p, (Var 0 sort.Val)) ∷ []); items = ((Data (Number (pos 64)) (Var 0 sort.Val) (Of2 binary.Cons (Of unary.Vi (Number (pos 4))) Nil)) ∷ []) }); post = (record { opened = []; facts = ([]); locals = []; items = ((Data (Number (pos 64)) (Var 0 sort.Val) (Of2 binary.Cons (Of unary.Vi (Number (pos 4))) Nil)) ∷ []) }) }) ∷ []) }) (record { is_void = false; name = name_f; params = (name_p ∷ []); vars = ((name_v, sort.Val) ∷ []); pre = (record { opened = []; facts = ([]); locals = ((name_p, (Var 0 sort.Val)) ∷ []); items = ((Data (Number (pos 64)) (Var 0 sort.Val) (Of2 binary.Cons (Of unary.Vi (Number (pos 4))) Nil)) ∷ []) }); post = (record { opened = []; facts = ([]); locals = []; items = ((Data (Number (pos 64)) (Var 0 sort.Val) (Of2 binary.Cons (Of unary.Vi (Number (pos 4))) Nil)) ∷ []) }) }) (record { temps = (name_p ∷ []); body = (c.Then c.Skip (c.Then (c.Return (Some (c.Const 0))) c.End)) }) (s.Then 1 (s.Block 1 (record { opened = []; facts = ([]); locals = []; items = ((Data (Number (pos 64)) (Named name_v) (Of2 binary.Cons (Of unary.Vi (Number (pos 4))) Nil)) ∷ (Pred (record { name = name_Z; args = ((Number (pos 1)) ∷ []) })) ∷ []) }) ([]) ([])) (s.WithBlock (s.Then 2 s.Skip s.NoBlock (s.Then 3 (s.Fall ([]) ([])) s.NoBlock s.End)) s.NoBlock) (s.Then 4 (s.Return ([]) ([]) ([])) s.NoBlock s.End)) ≡ (RefusedAt 1 11 7)
unfolding computing
conditions_176 = refl

conditions_177 : body_verdict (record { predicates = ([]); specs = ((record { is_void = false; name = name_f; params = (name_p ∷ []); vars = ((name_v, sort.Val) ∷ []); pre = (record { opened = []; facts = ([]); locals = ((name_p, (Var 0 sort.Val)) ∷ []); items = ((Data (Number (pos 64)) (Var 0 sort.Val) (Of2 binary.Cons (Of unary.Vi (Number (pos 4))) Nil)) ∷ []) }); post = (record { opened = []; facts = ([]); locals = []; items = ((Data (Number (pos 64)) (Var 0 sort.Val) (Of2 binary.Cons (Of unary.Vi (Number (pos 4))) Nil)) ∷ []) }) }) ∷ []) }) (record { is_void = false; name = name_f; params = (name_p ∷ []); vars = ((name_v, sort.Val) ∷ []); pre = (record { opened = []; facts = ([]); locals = ((name_p, (Var 0 sort.Val)) ∷ []); items = ((Data (Number (pos 64)) (Var 0 sort.Val) (Of2 binary.Cons (Of unary.Vi (Number (pos 4))) Nil)) ∷ []) }); post = (record { opened = []; facts = ([]); locals = []; items = ((Data (Number (pos 64)) (Var 0 sort.Val) (Of2 binary.Cons (Of unary.Vi (Number (pos 4))) Nil)) ∷ []) }) }) (record { temps = (name_p ∷ []); body = (c.Then (c.Return (Some (c.Const 0))) c.End) }) (s.Then 1 (s.Pose (record { opened = []; facts = ([]); locals = []; items = ((Data (Number (pos 64)) (Named name_v) (Of2 binary.Cons (Of unary.Vi (Number (pos 4))) Nil)) ∷ (Pred (record { name = name_Z; args = ((Number (pos 1)) ∷ []) })) ∷ []) }) ([]) ([])) (s.WithBlock (s.Then 2 (s.Meet ([]) ([])) s.NoBlock s.End) s.NoBlock) (s.Then 3 (s.Return ([]) ([]) ([])) s.NoBlock s.End)) ≡ (RefusedAt 1 12 7)
unfolding computing
conditions_177 = refl

conditions_178 : body_verdict (record { predicates = ([]); specs = ((record { is_void = false; name = name_f; params = (name_p ∷ []); vars = ((name_v, sort.Val) ∷ []); pre = (record { opened = []; facts = ([]); locals = ((name_p, (Var 0 sort.Val)) ∷ []); items = ((Data (Number (pos 64)) (Var 0 sort.Val) (Of2 binary.Cons (Of unary.Vi (Number (pos 4))) Nil)) ∷ []) }); post = (record { opened = []; facts = ([]); locals = []; items = ((Data (Number (pos 64)) (Var 0 sort.Val) (Of2 binary.Cons (Of unary.Vi (Number (pos 4))) Nil)) ∷ []) }) }) ∷ []) }) (record { is_void = false; name = name_f; params = (name_p ∷ []); vars = ((name_v, sort.Val) ∷ []); pre = (record { opened = []; facts = ([]); locals = ((name_p, (Var 0 sort.Val)) ∷ []); items = ((Data (Number (pos 64)) (Var 0 sort.Val) (Of2 binary.Cons (Of unary.Vi (Number (pos 4))) Nil)) ∷ []) }); post = (record { opened = []; facts = ([]); locals = []; items = ((Data (Number (pos 64)) (Var 0 sort.Val) (Of2 binary.Cons (Of unary.Vi (Number (pos 4))) Nil)) ∷ []) }) }) (record { temps = (name_p ∷ []); body = (c.Then (c.Return (Some (c.Const 0))) c.End) }) (s.Then 1 (s.Pose (record { opened = []; facts = ([]); locals = []; items = ((Data (Number (pos 64)) (Named name_v) (Of2 binary.Cons (Of unary.Vi (Number (pos 4))) Nil)) ∷ (Pred (record { name = name_Z; args = ((Number (pos 1)) ∷ []) })) ∷ []) }) ([]) (name_k ∷ [])) (s.WithBlock (s.Then 2 (s.Meet ([]) ([])) s.NoBlock s.End) s.NoBlock) (s.Then 3 (s.Return ([]) ([]) ([])) s.NoBlock s.End)) ≡ (RefusedAt 1 12 6)
unfolding computing
conditions_178 = refl

conditions_179 : body_verdict (record { predicates = ([]); specs = ((record { is_void = false; name = name_f; params = (name_p ∷ []); vars = ((name_v, sort.Val) ∷ []); pre = (record { opened = []; facts = ([]); locals = ((name_p, (Var 0 sort.Val)) ∷ []); items = ((Data (Number (pos 64)) (Var 0 sort.Val) (Of2 binary.Cons (Of unary.Vi (Number (pos 4))) Nil)) ∷ []) }); post = (record { opened = []; facts = ([]); locals = []; items = ((Data (Number (pos 64)) (Var 0 sort.Val) (Of2 binary.Cons (Of unary.Vi (Number (pos 4))) Nil)) ∷ []) }) }) ∷ []) }) (record { is_void = false; name = name_f; params = (name_p ∷ []); vars = ((name_v, sort.Val) ∷ []); pre = (record { opened = []; facts = ([]); locals = ((name_p, (Var 0 sort.Val)) ∷ []); items = ((Data (Number (pos 64)) (Var 0 sort.Val) (Of2 binary.Cons (Of unary.Vi (Number (pos 4))) Nil)) ∷ []) }); post = (record { opened = []; facts = ([]); locals = []; items = ((Data (Number (pos 64)) (Var 0 sort.Val) (Of2 binary.Cons (Of unary.Vi (Number (pos 4))) Nil)) ∷ []) }) }) (record { temps = (name_p ∷ []); body = (c.Then (c.Return (Some (c.Const 0))) c.End) }) (s.Then 1 (s.Pose (record { opened = []; facts = ([]); locals = []; items = ((Data (Number (pos 64)) (Named name_v) (Of2 binary.Cons (Of unary.Vi (Number (pos 4))) Nil)) ∷ (Pred (record { name = name_Z; args = ((Number (pos 1)) ∷ []) })) ∷ []) }) (name_k ∷ []) ([])) (s.WithBlock (s.Then 2 (s.Meet ([]) ([])) s.NoBlock s.End) s.NoBlock) (s.Then 3 (s.Return ([]) ([]) ([])) s.NoBlock s.End)) ≡ (RefusedAt 1 12 6)
unfolding computing
conditions_179 = refl

conditions_180 : body_verdict (record { predicates = ([]); specs = ((record { is_void = false; name = name_f; params = (name_p ∷ []); vars = ((name_v, sort.Val) ∷ []); pre = (record { opened = []; facts = ([]); locals = ((name_p, (Var 0 sort.Val)) ∷ []); items = ((Data (Number (pos 64)) (Var 0 sort.Val) (Of2 binary.Cons (Of unary.Vi (Number (pos 4))) Nil)) ∷ []) }); post = (record { opened = []; facts = ([]); locals = []; items = ((Data (Number (pos 64)) (Var 0 sort.Val) (Of2 binary.Cons (Of unary.Vi (Number (pos 4))) Nil)) ∷ []) }) }) ∷ []) }) (record { is_void = false; name = name_f; params = (name_p ∷ []); vars = ((name_v, sort.Val) ∷ []); pre = (record { opened = []; facts = ([]); locals = ((name_p, (Var 0 sort.Val)) ∷ []); items = ((Data (Number (pos 64)) (Var 0 sort.Val) (Of2 binary.Cons (Of unary.Vi (Number (pos 4))) Nil)) ∷ []) }); post = (record { opened = []; facts = ([]); locals = []; items = ((Data (Number (pos 64)) (Var 0 sort.Val) (Of2 binary.Cons (Of unary.Vi (Number (pos 4))) Nil)) ∷ []) }) }) (record { temps = (name_p ∷ []); body = (c.Then c.Skip (c.Then (c.Return (Some (c.Const 0))) c.End)) }) (s.Then 1 (s.Block 1 (record { opened = []; facts = ((Rel relation.Eq (Named name_v) (Number (pos 1))) ∷ []); locals = []; items = ((Data (Number (pos 64)) (Named name_v) (Of2 binary.Cons (Of unary.Vi (Number (pos 4))) Nil)) ∷ []) }) ([]) ([])) (s.WithBlock (s.Then 2 s.Skip s.NoBlock (s.Then 3 (s.Fall ([]) ([])) s.NoBlock s.End)) s.NoBlock) (s.Then 4 (s.Return ([]) ([]) ([])) s.NoBlock s.End)) ≡ (RefusedAt 1 11 1)
unfolding computing
conditions_180 = refl

conditions_181 : body_verdict (record { predicates = ([]); specs = ((record { is_void = false; name = name_f; params = (name_p ∷ []); vars = ((name_v, sort.Val) ∷ []); pre = (record { opened = []; facts = ([]); locals = ((name_p, (Var 0 sort.Val)) ∷ []); items = ((Data (Number (pos 64)) (Var 0 sort.Val) (Of2 binary.Cons (Of unary.Vi (Number (pos 4))) Nil)) ∷ []) }); post = (record { opened = []; facts = ([]); locals = []; items = ((Data (Number (pos 64)) (Var 0 sort.Val) (Of2 binary.Cons (Of unary.Vi (Number (pos 4))) Nil)) ∷ []) }) }) ∷ []) }) (record { is_void = false; name = name_f; params = (name_p ∷ []); vars = ((name_v, sort.Val) ∷ []); pre = (record { opened = []; facts = ([]); locals = ((name_p, (Var 0 sort.Val)) ∷ []); items = ((Data (Number (pos 64)) (Var 0 sort.Val) (Of2 binary.Cons (Of unary.Vi (Number (pos 4))) Nil)) ∷ []) }); post = (record { opened = []; facts = ([]); locals = []; items = ((Data (Number (pos 64)) (Var 0 sort.Val) (Of2 binary.Cons (Of unary.Vi (Number (pos 4))) Nil)) ∷ []) }) }) (record { temps = (name_p ∷ []); body = (c.Then (c.Return (Some (c.Const 0))) c.End) }) (s.Then 1 (s.Pose (record { opened = []; facts = ((Rel relation.Eq (Named name_v) (Number (pos 1))) ∷ []); locals = []; items = ((Data (Number (pos 64)) (Named name_v) (Of2 binary.Cons (Of unary.Vi (Number (pos 4))) Nil)) ∷ []) }) ([]) ([])) (s.WithBlock (s.Then 2 (s.Meet ([]) ([])) s.NoBlock s.End) s.NoBlock) (s.Then 3 (s.Return ([]) ([]) ([])) s.NoBlock s.End)) ≡ (RefusedAt 1 12 1)
unfolding computing
conditions_181 = refl

conditions_182 : body_verdict (record { predicates = ([]); specs = ((record { is_void = false; name = name_f; params = (name_p ∷ []); vars = ((name_v, sort.Val) ∷ []); pre = (record { opened = []; facts = ([]); locals = ((name_p, (Var 0 sort.Val)) ∷ []); items = ((Data (Number (pos 64)) (Var 0 sort.Val) (Of2 binary.Cons (Of unary.Vi (Number (pos 4))) Nil)) ∷ []) }); post = (record { opened = []; facts = ([]); locals = []; items = ((Data (Number (pos 64)) (Var 0 sort.Val) (Of2 binary.Cons (Of unary.Vi (Number (pos 4))) Nil)) ∷ []) }) }) ∷ []) }) (record { is_void = false; name = name_f; params = (name_p ∷ []); vars = ((name_v, sort.Val) ∷ []); pre = (record { opened = []; facts = ([]); locals = ((name_p, (Var 0 sort.Val)) ∷ []); items = ((Data (Number (pos 64)) (Var 0 sort.Val) (Of2 binary.Cons (Of unary.Vi (Number (pos 4))) Nil)) ∷ []) }); post = (record { opened = []; facts = ([]); locals = []; items = ((Data (Number (pos 64)) (Var 0 sort.Val) (Of2 binary.Cons (Of unary.Vi (Number (pos 4))) Nil)) ∷ []) }) }) (record { temps = (name_p ∷ []); body = (c.Then (c.Return (Some (c.Const 0))) c.End) }) (s.Then 1 (s.Pose (record { opened = []; facts = ((Rel relation.Eq (Named name_v) (Number (pos 1))) ∷ []); locals = []; items = ((Data (Number (pos 64)) (Named name_v) (Of2 binary.Cons (Of unary.Vi (Number (pos 4))) Nil)) ∷ []) }) ([]) (name_k ∷ [])) (s.WithBlock (s.Then 2 (s.Meet ([]) ([])) s.NoBlock s.End) s.NoBlock) (s.Then 3 (s.Return ([]) ([]) ([])) s.NoBlock s.End)) ≡ (RefusedAt 1 12 1)
unfolding computing
conditions_182 = refl

conditions_183 : body_verdict (record { predicates = ([]); specs = ((record { is_void = false; name = name_f; params = (name_p ∷ []); vars = ((name_v, sort.Val) ∷ []); pre = (record { opened = []; facts = ([]); locals = ((name_p, (Var 0 sort.Val)) ∷ []); items = ((Data (Number (pos 64)) (Var 0 sort.Val) (Of2 binary.Cons (Of unary.Vi (Number (pos 4))) Nil)) ∷ []) }); post = (record { opened = []; facts = ([]); locals = []; items = ((Data (Number (pos 64)) (Var 0 sort.Val) (Of2 binary.Cons (Of unary.Vi (Number (pos 4))) Nil)) ∷ []) }) }) ∷ []) }) (record { is_void = false; name = name_f; params = (name_p ∷ []); vars = ((name_v, sort.Val) ∷ []); pre = (record { opened = []; facts = ([]); locals = ((name_p, (Var 0 sort.Val)) ∷ []); items = ((Data (Number (pos 64)) (Var 0 sort.Val) (Of2 binary.Cons (Of unary.Vi (Number (pos 4))) Nil)) ∷ []) }); post = (record { opened = []; facts = ([]); locals = []; items = ((Data (Number (pos 64)) (Var 0 sort.Val) (Of2 binary.Cons (Of unary.Vi (Number (pos 4))) Nil)) ∷ []) }) }) (record { temps = (name_p ∷ []); body = (c.Then (c.Return (Some (c.Const 0))) c.End) }) (s.Then 1 (s.Pose (record { opened = []; facts = ((Rel relation.Eq (Named name_v) (Number (pos 1))) ∷ []); locals = []; items = ((Data (Number (pos 64)) (Named name_v) (Of2 binary.Cons (Of unary.Vi (Number (pos 4))) Nil)) ∷ []) }) (name_k ∷ []) ([])) (s.WithBlock (s.Then 2 (s.Meet ([]) ([])) s.NoBlock s.End) s.NoBlock) (s.Then 3 (s.Return ([]) ([]) ([])) s.NoBlock s.End)) ≡ (RefusedAt 1 12 1)
unfolding computing
conditions_183 = refl

conditions_184 : body_verdict (record { predicates = ([]); specs = ((record { is_void = false; name = name_f; params = (name_p ∷ []); vars = ((name_v, sort.Val) ∷ []); pre = (record { opened = []; facts = ([]); locals = ((name_p, (Var 0 sort.Val)) ∷ []); items = ((Data (Number (pos 64)) (Var 0 sort.Val) (Of2 binary.Cons (Of unary.Vi (Number (pos 4))) Nil)) ∷ []) }); post = (record { opened = []; facts = ([]); locals = []; items = ((Data (Number (pos 64)) (Var 0 sort.Val) (Of2 binary.Cons (Of unary.Vi (Number (pos 4))) Nil)) ∷ []) }) }) ∷ []) }) (record { is_void = false; name = name_f; params = (name_p ∷ []); vars = ((name_v, sort.Val) ∷ []); pre = (record { opened = []; facts = ([]); locals = ((name_p, (Var 0 sort.Val)) ∷ []); items = ((Data (Number (pos 64)) (Var 0 sort.Val) (Of2 binary.Cons (Of unary.Vi (Number (pos 4))) Nil)) ∷ []) }); post = (record { opened = []; facts = ([]); locals = []; items = ((Data (Number (pos 64)) (Var 0 sort.Val) (Of2 binary.Cons (Of unary.Vi (Number (pos 4))) Nil)) ∷ []) }) }) (record { temps = (name_p ∷ []); body = (c.Then c.Skip (c.Then (c.Return (Some (c.Const 0))) c.End)) }) (s.Then 1 (s.Block 1 (record { opened = []; facts = ([]); locals = ((name_z, (Named name_v)) ∷ []); items = ((Data (Number (pos 64)) (Named name_v) (Of2 binary.Cons (Of unary.Vi (Number (pos 4))) Nil)) ∷ []) }) ([]) ([])) (s.WithBlock (s.Then 2 s.Skip s.NoBlock (s.Then 3 (s.Fall ([]) ([])) s.NoBlock s.End)) s.NoBlock) (s.Then 4 (s.Return ([]) ([]) ([])) s.NoBlock s.End)) ≡ (RefusedAt 1 11 4)
unfolding computing
conditions_184 = refl

conditions_185 : body_verdict (record { predicates = ([]); specs = ((record { is_void = false; name = name_f; params = (name_p ∷ []); vars = ((name_v, sort.Val) ∷ []); pre = (record { opened = []; facts = ([]); locals = ((name_p, (Var 0 sort.Val)) ∷ []); items = ((Data (Number (pos 64)) (Var 0 sort.Val) (Of2 binary.Cons (Of unary.Vi (Number (pos 4))) Nil)) ∷ []) }); post = (record { opened = []; facts = ([]); locals = []; items = ((Data (Number (pos 64)) (Var 0 sort.Val) (Of2 binary.Cons (Of unary.Vi (Number (pos 4))) Nil)) ∷ []) }) }) ∷ []) }) (record { is_void = false; name = name_f; params = (name_p ∷ []); vars = ((name_v, sort.Val) ∷ []); pre = (record { opened = []; facts = ([]); locals = ((name_p, (Var 0 sort.Val)) ∷ []); items = ((Data (Number (pos 64)) (Var 0 sort.Val) (Of2 binary.Cons (Of unary.Vi (Number (pos 4))) Nil)) ∷ []) }); post = (record { opened = []; facts = ([]); locals = []; items = ((Data (Number (pos 64)) (Var 0 sort.Val) (Of2 binary.Cons (Of unary.Vi (Number (pos 4))) Nil)) ∷ []) }) }) (record { temps = (name_p ∷ []); body = (c.Then (c.Return (Some (c.Const 0))) c.End) }) (s.Then 1 (s.Pose (record { opened = []; facts = ([]); locals = ((name_z, (Named name_v)) ∷ []); items = ((Data (Number (pos 64)) (Named name_v) (Of2 binary.Cons (Of unary.Vi (Number (pos 4))) Nil)) ∷ []) }) ([]) ([])) (s.WithBlock (s.Then 2 (s.Meet ([]) ([])) s.NoBlock s.End) s.NoBlock) (s.Then 3 (s.Return ([]) ([]) ([])) s.NoBlock s.End)) ≡ (RefusedAt 1 12 4)
unfolding computing
conditions_185 = refl

conditions_186 : body_verdict (record { predicates = ([]); specs = ((record { is_void = false; name = name_f; params = (name_p ∷ []); vars = ((name_v, sort.Val) ∷ []); pre = (record { opened = []; facts = ([]); locals = ((name_p, (Var 0 sort.Val)) ∷ []); items = ((Data (Number (pos 64)) (Var 0 sort.Val) (Of2 binary.Cons (Of unary.Vi (Number (pos 4))) Nil)) ∷ []) }); post = (record { opened = []; facts = ([]); locals = []; items = ((Data (Number (pos 64)) (Var 0 sort.Val) (Of2 binary.Cons (Of unary.Vi (Number (pos 4))) Nil)) ∷ []) }) }) ∷ []) }) (record { is_void = false; name = name_f; params = (name_p ∷ []); vars = ((name_v, sort.Val) ∷ []); pre = (record { opened = []; facts = ([]); locals = ((name_p, (Var 0 sort.Val)) ∷ []); items = ((Data (Number (pos 64)) (Var 0 sort.Val) (Of2 binary.Cons (Of unary.Vi (Number (pos 4))) Nil)) ∷ []) }); post = (record { opened = []; facts = ([]); locals = []; items = ((Data (Number (pos 64)) (Var 0 sort.Val) (Of2 binary.Cons (Of unary.Vi (Number (pos 4))) Nil)) ∷ []) }) }) (record { temps = (name_p ∷ []); body = (c.Then (c.Return (Some (c.Const 0))) c.End) }) (s.Then 1 (s.Pose (record { opened = []; facts = ([]); locals = ((name_z, (Named name_v)) ∷ []); items = ((Data (Number (pos 64)) (Named name_v) (Of2 binary.Cons (Of unary.Vi (Number (pos 4))) Nil)) ∷ []) }) ([]) (name_k ∷ [])) (s.WithBlock (s.Then 2 (s.Meet ([]) ([])) s.NoBlock s.End) s.NoBlock) (s.Then 3 (s.Return ([]) ([]) ([])) s.NoBlock s.End)) ≡ (RefusedAt 1 12 4)
unfolding computing
conditions_186 = refl

conditions_187 : body_verdict (record { predicates = ([]); specs = ((record { is_void = false; name = name_f; params = (name_p ∷ []); vars = ((name_v, sort.Val) ∷ []); pre = (record { opened = []; facts = ([]); locals = ((name_p, (Var 0 sort.Val)) ∷ []); items = ((Data (Number (pos 64)) (Var 0 sort.Val) (Of2 binary.Cons (Of unary.Vi (Number (pos 4))) Nil)) ∷ []) }); post = (record { opened = []; facts = ([]); locals = []; items = ((Data (Number (pos 64)) (Var 0 sort.Val) (Of2 binary.Cons (Of unary.Vi (Number (pos 4))) Nil)) ∷ []) }) }) ∷ []) }) (record { is_void = false; name = name_f; params = (name_p ∷ []); vars = ((name_v, sort.Val) ∷ []); pre = (record { opened = []; facts = ([]); locals = ((name_p, (Var 0 sort.Val)) ∷ []); items = ((Data (Number (pos 64)) (Var 0 sort.Val) (Of2 binary.Cons (Of unary.Vi (Number (pos 4))) Nil)) ∷ []) }); post = (record { opened = []; facts = ([]); locals = []; items = ((Data (Number (pos 64)) (Var 0 sort.Val) (Of2 binary.Cons (Of unary.Vi (Number (pos 4))) Nil)) ∷ []) }) }) (record { temps = (name_p ∷ []); body = (c.Then (c.Return (Some (c.Const 0))) c.End) }) (s.Then 1 (s.Pose (record { opened = []; facts = ([]); locals = ((name_z, (Named name_v)) ∷ []); items = ((Data (Number (pos 64)) (Named name_v) (Of2 binary.Cons (Of unary.Vi (Number (pos 4))) Nil)) ∷ []) }) (name_k ∷ []) ([])) (s.WithBlock (s.Then 2 (s.Meet ([]) ([])) s.NoBlock s.End) s.NoBlock) (s.Then 3 (s.Return ([]) ([]) ([])) s.NoBlock s.End)) ≡ (RefusedAt 1 12 4)
unfolding computing
conditions_187 = refl

conditions_188 : body_verdict (record { predicates = ([]); specs = ((record { is_void = false; name = name_f; params = (name_p ∷ []); vars = ((name_v, sort.Val) ∷ []); pre = (record { opened = []; facts = ([]); locals = ((name_p, (Var 0 sort.Val)) ∷ []); items = ((Data (Number (pos 64)) (Var 0 sort.Val) (Of2 binary.Cons (Of unary.Vi (Number (pos 4))) Nil)) ∷ []) }); post = (record { opened = []; facts = ([]); locals = []; items = ((Data (Number (pos 64)) (Var 0 sort.Val) (Of2 binary.Cons (Of unary.Vi (Number (pos 4))) Nil)) ∷ []) }) }) ∷ []) }) (record { is_void = false; name = name_f; params = (name_p ∷ []); vars = ((name_v, sort.Val) ∷ []); pre = (record { opened = []; facts = ([]); locals = ((name_p, (Var 0 sort.Val)) ∷ []); items = ((Data (Number (pos 64)) (Var 0 sort.Val) (Of2 binary.Cons (Of unary.Vi (Number (pos 4))) Nil)) ∷ []) }); post = (record { opened = []; facts = ([]); locals = []; items = ((Data (Number (pos 64)) (Var 0 sort.Val) (Of2 binary.Cons (Of unary.Vi (Number (pos 4))) Nil)) ∷ []) }) }) (record { temps = (name_p ∷ []); body = (c.Then c.Skip (c.Then (c.Return (Some (c.Const 0))) c.End)) }) (s.Then 1 (s.Block 1 (record { opened = []; facts = ((Rel relation.Le (Number (pos 1)) (Number (pos 0))) ∷ []); locals = []; items = ((Data (Number (pos 64)) (Named name_v) (Of2 binary.Cons (Of unary.Vi (Number (pos 4))) Nil)) ∷ []) }) ([]) ([])) (s.WithBlock (s.Then 2 s.Skip s.NoBlock (s.Then 3 (s.Fall ([]) ([])) s.NoBlock s.End)) s.NoBlock) (s.Then 4 (s.Return ([]) ([]) ([])) s.NoBlock s.End)) ≡ (RefusedAt 3 10 3)
unfolding computing
conditions_188 = refl

conditions_189 : body_verdict (record { predicates = ([]); specs = ((record { is_void = false; name = name_f; params = (name_p ∷ []); vars = ((name_v, sort.Val) ∷ []); pre = (record { opened = []; facts = ([]); locals = ((name_p, (Var 0 sort.Val)) ∷ []); items = ((Data (Number (pos 64)) (Var 0 sort.Val) (Of2 binary.Cons (Of unary.Vi (Number (pos 4))) Nil)) ∷ []) }); post = (record { opened = []; facts = ([]); locals = []; items = ((Data (Number (pos 64)) (Var 0 sort.Val) (Of2 binary.Cons (Of unary.Vi (Number (pos 4))) Nil)) ∷ []) }) }) ∷ []) }) (record { is_void = false; name = name_f; params = (name_p ∷ []); vars = ((name_v, sort.Val) ∷ []); pre = (record { opened = []; facts = ([]); locals = ((name_p, (Var 0 sort.Val)) ∷ []); items = ((Data (Number (pos 64)) (Var 0 sort.Val) (Of2 binary.Cons (Of unary.Vi (Number (pos 4))) Nil)) ∷ []) }); post = (record { opened = []; facts = ([]); locals = []; items = ((Data (Number (pos 64)) (Var 0 sort.Val) (Of2 binary.Cons (Of unary.Vi (Number (pos 4))) Nil)) ∷ []) }) }) (record { temps = (name_p ∷ []); body = (c.Then (c.Return (Some (c.Const 0))) c.End) }) (s.Then 1 (s.Pose (record { opened = []; facts = ((Rel relation.Le (Number (pos 1)) (Number (pos 0))) ∷ []); locals = []; items = ((Data (Number (pos 64)) (Named name_v) (Of2 binary.Cons (Of unary.Vi (Number (pos 4))) Nil)) ∷ []) }) ([]) ([])) (s.WithBlock (s.Then 2 (s.Meet ([]) ([])) s.NoBlock s.End) s.NoBlock) (s.Then 3 (s.Return ([]) ([]) ([])) s.NoBlock s.End)) ≡ (RefusedAt 2 37 3)
unfolding computing
conditions_189 = refl

conditions_190 : body_verdict (record { predicates = ([]); specs = ((record { is_void = false; name = name_f; params = (name_p ∷ []); vars = ((name_v, sort.Val) ∷ []); pre = (record { opened = []; facts = ([]); locals = ((name_p, (Var 0 sort.Val)) ∷ []); items = ((Data (Number (pos 64)) (Var 0 sort.Val) (Of2 binary.Cons (Of unary.Vi (Number (pos 4))) Nil)) ∷ []) }); post = (record { opened = []; facts = ([]); locals = []; items = ((Data (Number (pos 64)) (Var 0 sort.Val) (Of2 binary.Cons (Of unary.Vi (Number (pos 4))) Nil)) ∷ []) }) }) ∷ []) }) (record { is_void = false; name = name_f; params = (name_p ∷ []); vars = ((name_v, sort.Val) ∷ []); pre = (record { opened = []; facts = ([]); locals = ((name_p, (Var 0 sort.Val)) ∷ []); items = ((Data (Number (pos 64)) (Var 0 sort.Val) (Of2 binary.Cons (Of unary.Vi (Number (pos 4))) Nil)) ∷ []) }); post = (record { opened = []; facts = ([]); locals = []; items = ((Data (Number (pos 64)) (Var 0 sort.Val) (Of2 binary.Cons (Of unary.Vi (Number (pos 4))) Nil)) ∷ []) }) }) (record { temps = (name_p ∷ []); body = (c.Then (c.Return (Some (c.Const 0))) c.End) }) (s.Then 1 (s.Pose (record { opened = []; facts = ((Rel relation.Le (Number (pos 1)) (Number (pos 0))) ∷ []); locals = []; items = ((Data (Number (pos 64)) (Named name_v) (Of2 binary.Cons (Of unary.Vi (Number (pos 4))) Nil)) ∷ []) }) ([]) (name_k ∷ [])) (s.WithBlock (s.Then 2 (s.Meet ([]) ([])) s.NoBlock s.End) s.NoBlock) (s.Then 3 (s.Return ([]) ([]) ([])) s.NoBlock s.End)) ≡ (RefusedAt 1 12 6)
unfolding computing
conditions_190 = refl

conditions_191 : body_verdict (record { predicates = ([]); specs = ((record { is_void = false; name = name_f; params = (name_p ∷ []); vars = ((name_v, sort.Val) ∷ []); pre = (record { opened = []; facts = ([]); locals = ((name_p, (Var 0 sort.Val)) ∷ []); items = ((Data (Number (pos 64)) (Var 0 sort.Val) (Of2 binary.Cons (Of unary.Vi (Number (pos 4))) Nil)) ∷ []) }); post = (record { opened = []; facts = ([]); locals = []; items = ((Data (Number (pos 64)) (Var 0 sort.Val) (Of2 binary.Cons (Of unary.Vi (Number (pos 4))) Nil)) ∷ []) }) }) ∷ []) }) (record { is_void = false; name = name_f; params = (name_p ∷ []); vars = ((name_v, sort.Val) ∷ []); pre = (record { opened = []; facts = ([]); locals = ((name_p, (Var 0 sort.Val)) ∷ []); items = ((Data (Number (pos 64)) (Var 0 sort.Val) (Of2 binary.Cons (Of unary.Vi (Number (pos 4))) Nil)) ∷ []) }); post = (record { opened = []; facts = ([]); locals = []; items = ((Data (Number (pos 64)) (Var 0 sort.Val) (Of2 binary.Cons (Of unary.Vi (Number (pos 4))) Nil)) ∷ []) }) }) (record { temps = (name_p ∷ []); body = (c.Then (c.Return (Some (c.Const 0))) c.End) }) (s.Then 1 (s.Pose (record { opened = []; facts = ((Rel relation.Le (Number (pos 1)) (Number (pos 0))) ∷ []); locals = []; items = ((Data (Number (pos 64)) (Named name_v) (Of2 binary.Cons (Of unary.Vi (Number (pos 4))) Nil)) ∷ []) }) (name_k ∷ []) ([])) (s.WithBlock (s.Then 2 (s.Meet ([]) ([])) s.NoBlock s.End) s.NoBlock) (s.Then 3 (s.Return ([]) ([]) ([])) s.NoBlock s.End)) ≡ (RefusedAt 1 12 6)
unfolding computing
conditions_191 = refl

conditions_192 : body_verdict (record { predicates = ([]); specs = ((record { is_void = false; name = name_f; params = (name_p ∷ []); vars = ((name_v, sort.Val) ∷ []); pre = (record { opened = []; facts = ([]); locals = ((name_p, (Var 0 sort.Val)) ∷ []); items = ((Data (Number (pos 64)) (Var 0 sort.Val) (Of2 binary.Cons (Of unary.Vi (Number (pos 4))) Nil)) ∷ []) }); post = (record { opened = []; facts = ([]); locals = []; items = ((Data (Number (pos 64)) (Var 0 sort.Val) (Of2 binary.Cons (Of unary.Vi (Number (pos 4))) Nil)) ∷ []) }) }) ∷ []) }) (record { is_void = false; name = name_f; params = (name_p ∷ []); vars = ((name_v, sort.Val) ∷ []); pre = (record { opened = []; facts = ([]); locals = ((name_p, (Var 0 sort.Val)) ∷ []); items = ((Data (Number (pos 64)) (Var 0 sort.Val) (Of2 binary.Cons (Of unary.Vi (Number (pos 4))) Nil)) ∷ []) }); post = (record { opened = []; facts = ([]); locals = []; items = ((Data (Number (pos 64)) (Var 0 sort.Val) (Of2 binary.Cons (Of unary.Vi (Number (pos 4))) Nil)) ∷ []) }) }) (record { temps = (name_p ∷ []); body = (c.Then c.Skip (c.Then (c.Return (Some (c.Const 0))) c.End)) }) (s.Then 1 (s.Block 1 (record { opened = []; facts = ([]); locals = []; items = ([]) }) ([]) ([])) (s.WithBlock (s.Then 2 s.Skip s.NoBlock (s.Then 3 (s.Fall ([]) ([])) s.NoBlock s.End)) s.NoBlock) (s.Then 4 (s.Return ([]) ([]) ([])) s.NoBlock s.End)) ≡ (RefusedAt 3 10 5)
unfolding computing
conditions_192 = refl

conditions_193 : body_verdict (record { predicates = ([]); specs = ((record { is_void = false; name = name_f; params = (name_p ∷ []); vars = ((name_v, sort.Val) ∷ []); pre = (record { opened = []; facts = ([]); locals = ((name_p, (Var 0 sort.Val)) ∷ []); items = ((Data (Number (pos 64)) (Var 0 sort.Val) (Of2 binary.Cons (Of unary.Vi (Number (pos 4))) Nil)) ∷ []) }); post = (record { opened = []; facts = ([]); locals = []; items = ((Data (Number (pos 64)) (Var 0 sort.Val) (Of2 binary.Cons (Of unary.Vi (Number (pos 4))) Nil)) ∷ []) }) }) ∷ []) }) (record { is_void = false; name = name_f; params = (name_p ∷ []); vars = ((name_v, sort.Val) ∷ []); pre = (record { opened = []; facts = ([]); locals = ((name_p, (Var 0 sort.Val)) ∷ []); items = ((Data (Number (pos 64)) (Var 0 sort.Val) (Of2 binary.Cons (Of unary.Vi (Number (pos 4))) Nil)) ∷ []) }); post = (record { opened = []; facts = ([]); locals = []; items = ((Data (Number (pos 64)) (Var 0 sort.Val) (Of2 binary.Cons (Of unary.Vi (Number (pos 4))) Nil)) ∷ []) }) }) (record { temps = (name_p ∷ []); body = (c.Then (c.Return (Some (c.Const 0))) c.End) }) (s.Then 1 (s.Pose (record { opened = []; facts = ([]); locals = []; items = ([]) }) ([]) ([])) (s.WithBlock (s.Then 2 (s.Meet ([]) ([])) s.NoBlock s.End) s.NoBlock) (s.Then 3 (s.Return ([]) ([]) ([])) s.NoBlock s.End)) ≡ (RefusedAt 2 37 5)
unfolding computing
conditions_193 = refl

conditions_194 : body_verdict (record { predicates = ([]); specs = ((record { is_void = false; name = name_f; params = (name_p ∷ []); vars = ((name_v, sort.Val) ∷ []); pre = (record { opened = []; facts = ([]); locals = ((name_p, (Var 0 sort.Val)) ∷ []); items = ((Data (Number (pos 64)) (Var 0 sort.Val) (Of2 binary.Cons (Of unary.Vi (Number (pos 4))) Nil)) ∷ []) }); post = (record { opened = []; facts = ([]); locals = []; items = ((Data (Number (pos 64)) (Var 0 sort.Val) (Of2 binary.Cons (Of unary.Vi (Number (pos 4))) Nil)) ∷ []) }) }) ∷ []) }) (record { is_void = false; name = name_f; params = (name_p ∷ []); vars = ((name_v, sort.Val) ∷ []); pre = (record { opened = []; facts = ([]); locals = ((name_p, (Var 0 sort.Val)) ∷ []); items = ((Data (Number (pos 64)) (Var 0 sort.Val) (Of2 binary.Cons (Of unary.Vi (Number (pos 4))) Nil)) ∷ []) }); post = (record { opened = []; facts = ([]); locals = []; items = ((Data (Number (pos 64)) (Var 0 sort.Val) (Of2 binary.Cons (Of unary.Vi (Number (pos 4))) Nil)) ∷ []) }) }) (record { temps = (name_p ∷ []); body = (c.Then (c.Return (Some (c.Const 0))) c.End) }) (s.Then 1 (s.Pose (record { opened = []; facts = ([]); locals = []; items = ([]) }) ([]) (name_k ∷ [])) (s.WithBlock (s.Then 2 (s.Meet ([]) ([])) s.NoBlock s.End) s.NoBlock) (s.Then 3 (s.Return ([]) ([]) ([])) s.NoBlock s.End)) ≡ (RefusedAt 1 12 6)
unfolding computing
conditions_194 = refl

conditions_195 : body_verdict (record { predicates = ([]); specs = ((record { is_void = false; name = name_f; params = (name_p ∷ []); vars = ((name_v, sort.Val) ∷ []); pre = (record { opened = []; facts = ([]); locals = ((name_p, (Var 0 sort.Val)) ∷ []); items = ((Data (Number (pos 64)) (Var 0 sort.Val) (Of2 binary.Cons (Of unary.Vi (Number (pos 4))) Nil)) ∷ []) }); post = (record { opened = []; facts = ([]); locals = []; items = ((Data (Number (pos 64)) (Var 0 sort.Val) (Of2 binary.Cons (Of unary.Vi (Number (pos 4))) Nil)) ∷ []) }) }) ∷ []) }) (record { is_void = false; name = name_f; params = (name_p ∷ []); vars = ((name_v, sort.Val) ∷ []); pre = (record { opened = []; facts = ([]); locals = ((name_p, (Var 0 sort.Val)) ∷ []); items = ((Data (Number (pos 64)) (Var 0 sort.Val) (Of2 binary.Cons (Of unary.Vi (Number (pos 4))) Nil)) ∷ []) }); post = (record { opened = []; facts = ([]); locals = []; items = ((Data (Number (pos 64)) (Var 0 sort.Val) (Of2 binary.Cons (Of unary.Vi (Number (pos 4))) Nil)) ∷ []) }) }) (record { temps = (name_p ∷ []); body = (c.Then (c.Return (Some (c.Const 0))) c.End) }) (s.Then 1 (s.Pose (record { opened = []; facts = ([]); locals = []; items = ([]) }) (name_k ∷ []) ([])) (s.WithBlock (s.Then 2 (s.Meet ([]) ([])) s.NoBlock s.End) s.NoBlock) (s.Then 3 (s.Return ([]) ([]) ([])) s.NoBlock s.End)) ≡ (RefusedAt 1 12 6)
unfolding computing
conditions_195 = refl

conditions_196 : body_verdict (record { predicates = ([]); specs = ((record { is_void = false; name = name_f; params = (name_p ∷ []); vars = ((name_v, sort.Val) ∷ []); pre = (record { opened = []; facts = ([]); locals = ((name_p, (Var 0 sort.Val)) ∷ []); items = ((Data (Number (pos 64)) (Var 0 sort.Val) (Of2 binary.Cons (Of unary.Vi (Number (pos 4))) Nil)) ∷ []) }); post = (record { opened = []; facts = ([]); locals = []; items = ((Data (Number (pos 64)) (Var 0 sort.Val) (Of2 binary.Cons (Of unary.Vi (Number (pos 4))) Nil)) ∷ []) }) }) ∷ []) }) (record { is_void = false; name = name_f; params = (name_p ∷ []); vars = ((name_v, sort.Val) ∷ []); pre = (record { opened = []; facts = ([]); locals = ((name_p, (Var 0 sort.Val)) ∷ []); items = ((Data (Number (pos 64)) (Var 0 sort.Val) (Of2 binary.Cons (Of unary.Vi (Number (pos 4))) Nil)) ∷ []) }); post = (record { opened = []; facts = ([]); locals = []; items = ((Data (Number (pos 64)) (Var 0 sort.Val) (Of2 binary.Cons (Of unary.Vi (Number (pos 4))) Nil)) ∷ []) }) }) (record { temps = (name_p ∷ []); body = (c.Then c.Skip (c.Then (c.Return (Some (c.Const 0))) c.End)) }) (s.Then 1 (s.Block 1 (record { opened = []; facts = ([]); locals = []; items = ((Data (Number (pos 32)) (Named name_v) (Of2 binary.Cons (Of unary.Vi (Number (pos 4))) Nil)) ∷ []) }) ([]) ([])) (s.WithBlock (s.Then 2 s.Skip s.NoBlock (s.Then 3 (s.Fall ([]) ([])) s.NoBlock s.End)) s.NoBlock) (s.Then 4 (s.Return ([]) ([]) ([])) s.NoBlock s.End)) ≡ (RefusedAt 3 10 5)
unfolding computing
conditions_196 = refl

conditions_197 : body_verdict (record { predicates = ([]); specs = ((record { is_void = false; name = name_f; params = (name_p ∷ []); vars = ((name_v, sort.Val) ∷ []); pre = (record { opened = []; facts = ([]); locals = ((name_p, (Var 0 sort.Val)) ∷ []); items = ((Data (Number (pos 64)) (Var 0 sort.Val) (Of2 binary.Cons (Of unary.Vi (Number (pos 4))) Nil)) ∷ []) }); post = (record { opened = []; facts = ([]); locals = []; items = ((Data (Number (pos 64)) (Var 0 sort.Val) (Of2 binary.Cons (Of unary.Vi (Number (pos 4))) Nil)) ∷ []) }) }) ∷ []) }) (record { is_void = false; name = name_f; params = (name_p ∷ []); vars = ((name_v, sort.Val) ∷ []); pre = (record { opened = []; facts = ([]); locals = ((name_p, (Var 0 sort.Val)) ∷ []); items = ((Data (Number (pos 64)) (Var 0 sort.Val) (Of2 binary.Cons (Of unary.Vi (Number (pos 4))) Nil)) ∷ []) }); post = (record { opened = []; facts = ([]); locals = []; items = ((Data (Number (pos 64)) (Var 0 sort.Val) (Of2 binary.Cons (Of unary.Vi (Number (pos 4))) Nil)) ∷ []) }) }) (record { temps = (name_p ∷ []); body = (c.Then (c.Return (Some (c.Const 0))) c.End) }) (s.Then 1 (s.Pose (record { opened = []; facts = ([]); locals = []; items = ((Data (Number (pos 32)) (Named name_v) (Of2 binary.Cons (Of unary.Vi (Number (pos 4))) Nil)) ∷ []) }) ([]) ([])) (s.WithBlock (s.Then 2 (s.Meet ([]) ([])) s.NoBlock s.End) s.NoBlock) (s.Then 3 (s.Return ([]) ([]) ([])) s.NoBlock s.End)) ≡ (RefusedAt 2 37 5)
unfolding computing
conditions_197 = refl

conditions_198 : body_verdict (record { predicates = ([]); specs = ((record { is_void = false; name = name_f; params = (name_p ∷ []); vars = ((name_v, sort.Val) ∷ []); pre = (record { opened = []; facts = ([]); locals = ((name_p, (Var 0 sort.Val)) ∷ []); items = ((Data (Number (pos 64)) (Var 0 sort.Val) (Of2 binary.Cons (Of unary.Vi (Number (pos 4))) Nil)) ∷ []) }); post = (record { opened = []; facts = ([]); locals = []; items = ((Data (Number (pos 64)) (Var 0 sort.Val) (Of2 binary.Cons (Of unary.Vi (Number (pos 4))) Nil)) ∷ []) }) }) ∷ []) }) (record { is_void = false; name = name_f; params = (name_p ∷ []); vars = ((name_v, sort.Val) ∷ []); pre = (record { opened = []; facts = ([]); locals = ((name_p, (Var 0 sort.Val)) ∷ []); items = ((Data (Number (pos 64)) (Var 0 sort.Val) (Of2 binary.Cons (Of unary.Vi (Number (pos 4))) Nil)) ∷ []) }); post = (record { opened = []; facts = ([]); locals = []; items = ((Data (Number (pos 64)) (Var 0 sort.Val) (Of2 binary.Cons (Of unary.Vi (Number (pos 4))) Nil)) ∷ []) }) }) (record { temps = (name_p ∷ []); body = (c.Then (c.Return (Some (c.Const 0))) c.End) }) (s.Then 1 (s.Pose (record { opened = []; facts = ([]); locals = []; items = ((Data (Number (pos 32)) (Named name_v) (Of2 binary.Cons (Of unary.Vi (Number (pos 4))) Nil)) ∷ []) }) ([]) (name_k ∷ [])) (s.WithBlock (s.Then 2 (s.Meet ([]) ([])) s.NoBlock s.End) s.NoBlock) (s.Then 3 (s.Return ([]) ([]) ([])) s.NoBlock s.End)) ≡ (RefusedAt 1 12 6)
unfolding computing
conditions_198 = refl

conditions_199 : body_verdict (record { predicates = ([]); specs = ((record { is_void = false; name = name_f; params = (name_p ∷ []); vars = ((name_v, sort.Val) ∷ []); pre = (record { opened = []; facts = ([]); locals = ((name_p, (Var 0 sort.Val)) ∷ []); items = ((Data (Number (pos 64)) (Var 0 sort.Val) (Of2 binary.Cons (Of unary.Vi (Number (pos 4))) Nil)) ∷ []) }); post = (record { opened = []; facts = ([]); locals = []; items = ((Data (Number (pos 64)) (Var 0 sort.Val) (Of2 binary.Cons (Of unary.Vi (Number (pos 4))) Nil)) ∷ []) }) }) ∷ []) }) (record { is_void = false; name = name_f; params = (name_p ∷ []); vars = ((name_v, sort.Val) ∷ []); pre = (record { opened = []; facts = ([]); locals = ((name_p, (Var 0 sort.Val)) ∷ []); items = ((Data (Number (pos 64)) (Var 0 sort.Val) (Of2 binary.Cons (Of unary.Vi (Number (pos 4))) Nil)) ∷ []) }); post = (record { opened = []; facts = ([]); locals = []; items = ((Data (Number (pos 64)) (Var 0 sort.Val) (Of2 binary.Cons (Of unary.Vi (Number (pos 4))) Nil)) ∷ []) }) }) (record { temps = (name_p ∷ []); body = (c.Then (c.Return (Some (c.Const 0))) c.End) }) (s.Then 1 (s.Pose (record { opened = []; facts = ([]); locals = []; items = ((Data (Number (pos 32)) (Named name_v) (Of2 binary.Cons (Of unary.Vi (Number (pos 4))) Nil)) ∷ []) }) (name_k ∷ []) ([])) (s.WithBlock (s.Then 2 (s.Meet ([]) ([])) s.NoBlock s.End) s.NoBlock) (s.Then 3 (s.Return ([]) ([]) ([])) s.NoBlock s.End)) ≡ (RefusedAt 1 12 6)
unfolding computing
conditions_199 = refl

conditions_200 : body_verdict (record { predicates = ([]); specs = ((record { is_void = false; name = name_f; params = (name_p ∷ []); vars = ((name_v, sort.Val) ∷ []); pre = (record { opened = []; facts = ([]); locals = ((name_p, (Var 0 sort.Val)) ∷ []); items = ((Data (Number (pos 64)) (Var 0 sort.Val) (Of2 binary.Cons (Of unary.Vi (Number (pos 4))) Nil)) ∷ []) }); post = (record { opened = []; facts = ([]); locals = []; items = ((Data (Number (pos 64)) (Var 0 sort.Val) (Of2 binary.Cons (Of unary.Vi (Number (pos 4))) Nil)) ∷ []) }) }) ∷ []) }) (record { is_void = false; name = name_f; params = (name_p ∷ []); vars = ((name_v, sort.Val) ∷ []); pre = (record { opened = []; facts = ([]); locals = ((name_p, (Var 0 sort.Val)) ∷ []); items = ((Data (Number (pos 64)) (Var 0 sort.Val) (Of2 binary.Cons (Of unary.Vi (Number (pos 4))) Nil)) ∷ []) }); post = (record { opened = []; facts = ([]); locals = []; items = ((Data (Number (pos 64)) (Var 0 sort.Val) (Of2 binary.Cons (Of unary.Vi (Number (pos 4))) Nil)) ∷ []) }) }) (record { temps = (name_p ∷ []); body = (c.Then c.Skip (c.Then (c.Return (Some (c.Const 0))) c.End)) }) (s.Then 1 (s.Pose (record { opened = []; facts = ([]); locals = ((name_p, (Named name_v)) ∷ []); items = ((Data (Number (pos 64)) (Named name_v) (Of2 binary.Cons (Of unary.Vi (Number (pos 4))) Nil)) ∷ []) }) ([]) ([])) (s.WithBlock (s.Then 2 s.Skip s.NoBlock (s.Then 3 (s.Meet ([]) ([])) s.NoBlock s.End)) s.NoBlock) (s.Then 4 s.Skip s.NoBlock (s.Then 5 (s.Return ([]) ([]) ([])) s.NoBlock s.End))) ≡ (RefusedAt 2 1 1)
unfolding computing
conditions_200 = refl
