-- Random works.
use Rattle.std.specs.Prelude.{◌≡◌, refl, pos, [], ◌∷◌, true, false, Some, None}
use Rattle.vd_terms.specs.Terms.{Number, Var, Named, Global, Undef, Nil, Of, Of2, Of3}
use Rattle.vd_terms.specs.declared.assertion.FactOf.TheVariants.{Rel, IsInt, IsPtr}
use Rattle.vd_terms.specs.declared.assertion.ItemOf.TheVariants.{Data, Lock, Holds}
use Rattle.vd_rules.specs.Computing.{computing}
use Rattle.vd_rules.specs.Verdicts.{Accepted, RefusedAt, body_verdict}
use Rattle.vd_terms.specs.declared.operation.Unary.TheVariants as unary
use Rattle.vd_terms.specs.declared.operation.Binary.TheVariants as binary
use Rattle.vd_terms.specs.declared.operation.Ternary.TheVariants as ternary
use Rattle.vd_logic.specs.declared.term.Sort.TheVariants as sort
use Rattle.vd_logic.specs.declared.assertion.Rel.TheVariants as relation
use Rattle.vd_logic.specs.declared.step.CertLine.TheVariants as line
use Rattle.vd_logic.specs.declared.step.Forgotten.TheVariants as forgotten
use Rattle.vd_clight.specs.declared.syntax.UnOp.TheVariants as one
use Rattle.vd_clight.specs.declared.syntax.BinOp.TheVariants as two
use Rattle.vd_clight.specs.declared.typed.Kind.TheVariants as kind
use Rattle.vd_clight.specs.declared.typed.Root.TheVariants as root
use Rattle.vd_clight.specs.declared.typed.LockOp.TheVariants as lock
use Rattle.vd_steps.specs.Code as c
use Rattle.vd_steps.specs.Script as s
use Rattle.vd_examples.specs.Names.{name_E, name_a0, name_arr, name_b0, name_b1, name_d0, name_e2, name_f, name_g, name_i, name_i0, name_iv, name_k1, name_k2, name_k3, name_k4, name_k5, name_k6, name_l, name_l2, name_len_pos, name_len_upd, name_main, name_n0, name_ov, name_p1, name_q1, name_r2, name_s, name_t, name_u0, name_u1, name_x, name_x1, name_zz}

random_601 : body_verdict (record { predicates = ((record { name = name_E; args = ([]); cases = ((record { opened = []; facts = ([]); locals = []; items = ([]) }) ∷ []) }) ∷ []); specs = ((record { is_void = true; name = name_f; params = (name_n0 ∷ []); vars = ((name_a0, sort.Int) ∷ []); pre = (record { opened = []; facts = ((Rel relation.Le (Number (pos 2)) (Var 0 sort.Int)) ∷ (Rel relation.Le (Var 0 sort.Int) (Number (pos 9))) ∷ []); locals = ((name_n0, (Of unary.Vi (Var 0 sort.Int))) ∷ []); items = ([]) }); post = (record { opened = []; facts = ([]); locals = []; items = ([]) }) }) ∷ (record { is_void = false; name = name_main; params = ([]); vars = []; pre = (record { opened = []; facts = ([]); locals = []; items = ([]) }); post = (record { opened = []; facts = ((Rel relation.Eq (Var 0 sort.Val) (Of unary.Vi (Number (pos 0)))) ∷ []); locals = []; items = ([]) }) }) ∷ []) }) (record { is_void = false; name = name_main; params = ([]); vars = []; pre = (record { opened = []; facts = ([]); locals = []; items = ([]) }); post = (record { opened = []; facts = ((Rel relation.Eq (Var 0 sort.Val) (Of unary.Vi (Number (pos 0)))) ∷ []); locals = []; items = ([]) }) }) (record { temps = ([]); body = (c.Then (c.Return (Some (c.Const 0))) c.End) }) (s.Then 1 (s.Return ([]) ([]) ([])) s.NoBlock s.End) ≡ Accepted
unfolding computing
random_601 = refl

random_602 : body_verdict (record { predicates = ((record { name = name_E; args = ([]); cases = ((record { opened = []; facts = ([]); locals = []; items = ([]) }) ∷ []) }) ∷ []); specs = ((record { is_void = true; name = name_f; params = (name_n0 ∷ []); vars = ((name_a0, sort.Int) ∷ []); pre = (record { opened = []; facts = ((Rel relation.Le (Number (pos 1)) (Var 0 sort.Int)) ∷ (Rel relation.Le (Var 0 sort.Int) (Number (pos 9))) ∷ []); locals = ((name_n0, (Of unary.Vi (Var 0 sort.Int))) ∷ []); items = ([]) }); post = (record { opened = []; facts = ([]); locals = []; items = ([]) }) }) ∷ (record { is_void = false; name = name_main; params = ([]); vars = []; pre = (record { opened = []; facts = ([]); locals = []; items = ([]) }); post = (record { opened = []; facts = ((Rel relation.Eq (Var 0 sort.Val) (Of unary.Vi (Number (pos 0)))) ∷ []); locals = []; items = ([]) }) }) ∷ []) }) (record { is_void = false; name = name_main; params = ([]); vars = []; pre = (record { opened = []; facts = ([]); locals = []; items = ([]) }); post = (record { opened = []; facts = ((Rel relation.Eq (Var 0 sort.Val) (Of unary.Vi (Number (pos 0)))) ∷ []); locals = []; items = ([]) }) }) (record { temps = ([]); body = (c.Then (c.Return (Some (c.Const 0))) c.End) }) (s.Then 1 (s.Unfold 0 (([]) ∷ [])) (s.WithBlock s.End s.NoBlock) (s.Then 2 (s.Return ([]) ([]) ([])) s.NoBlock s.End)) ≡ (RefusedAt 1 22 1)
unfolding computing
random_602 = refl

random_603 : body_verdict (record { predicates = ((record { name = name_E; args = ([]); cases = ((record { opened = []; facts = ([]); locals = []; items = ([]) }) ∷ []) }) ∷ []); specs = ((record { is_void = true; name = name_f; params = (name_n0 ∷ []); vars = ((name_a0, sort.Int) ∷ []); pre = (record { opened = []; facts = ((Rel relation.Le (Number (pos 1)) (Var 0 sort.Int)) ∷ (Rel relation.Le (Var 0 sort.Int) (Number (pos 9))) ∷ []); locals = ((name_n0, (Of unary.Vi (Var 0 sort.Int))) ∷ []); items = ([]) }); post = (record { opened = []; facts = ([]); locals = []; items = ([]) }) }) ∷ (record { is_void = false; name = name_main; params = ([]); vars = []; pre = (record { opened = []; facts = ([]); locals = []; items = ([]) }); post = (record { opened = []; facts = ((Rel relation.Eq (Var 0 sort.Val) (Of unary.Vi (Number (pos 0)))) ∷ []); locals = []; items = ([]) }) }) ∷ []) }) (record { is_void = true; name = name_f; params = (name_n0 ∷ []); vars = ((name_a0, sort.Int) ∷ []); pre = (record { opened = []; facts = ((Rel relation.Le (Number (pos 1)) (Var 0 sort.Int)) ∷ (Rel relation.Le (Var 0 sort.Int) (Number (pos 9))) ∷ []); locals = ((name_n0, (Of unary.Vi (Var 0 sort.Int))) ∷ []); items = ([]) }); post = (record { opened = []; facts = ([]); locals = []; items = ([]) }) }) (record { temps = (name_n0 ∷ name_s ∷ name_t ∷ name_i ∷ name_x1 ∷ name_d0 ∷ name_p1 ∷ name_q1 ∷ []); body = (c.Then (c.Set 1 (c.Const 2)) (c.Then (c.Set 2 (c.Const 3)) (c.Then (c.Set 4 (c.Unary one.Invert kind.Unsigned (c.Const 0))) c.End))) }) (s.Then 1 (s.Set ([]) ([])) s.NoBlock (s.Then 2 s.Skip s.NoBlock (s.Then 3 (s.Fall ([]) ([])) s.NoBlock (s.Then 4 (s.Set ([]) ([])) s.NoBlock s.End)))) ≡ (RefusedAt 2 1 1)
unfolding computing
random_603 = refl

random_604 : body_verdict (record { predicates = ((record { name = name_E; args = ([]); cases = ((record { opened = []; facts = ([]); locals = []; items = ([]) }) ∷ []) }) ∷ []); specs = ((record { is_void = true; name = name_f; params = (name_n0 ∷ []); vars = ((name_a0, sort.Int) ∷ []); pre = (record { opened = []; facts = ((Rel relation.Le (Number (pos 1)) (Var 0 sort.Int)) ∷ (Rel relation.Le (Var 0 sort.Int) (Number (pos 9))) ∷ []); locals = ((name_n0, (Of unary.Vi (Var 0 sort.Int))) ∷ []); items = ([]) }); post = (record { opened = []; facts = ([]); locals = []; items = ([]) }) }) ∷ (record { is_void = false; name = name_main; params = ([]); vars = []; pre = (record { opened = []; facts = ([]); locals = []; items = ([]) }); post = (record { opened = []; facts = ((Rel relation.Eq (Var 0 sort.Val) (Of unary.Vi (Number (pos 0)))) ∷ []); locals = []; items = ([]) }) }) ∷ []) }) (record { is_void = true; name = name_f; params = (name_n0 ∷ []); vars = ((name_a0, sort.Int) ∷ []); pre = (record { opened = []; facts = ((Rel relation.Le (Number (pos 1)) (Var 0 sort.Int)) ∷ (Rel relation.Le (Var 0 sort.Int) (Number (pos 9))) ∷ []); locals = ((name_n0, (Of unary.Vi (Var 0 sort.Int))) ∷ []); items = ([]) }); post = (record { opened = []; facts = ([]); locals = []; items = ([]) }) }) (record { temps = (name_n0 ∷ name_s ∷ name_t ∷ name_i ∷ name_x1 ∷ name_d0 ∷ name_p1 ∷ name_q1 ∷ []); body = (c.Then (c.Set 1 (c.Const 2)) (c.Then (c.Set 2 (c.Const 3)) (c.Then (c.Set 4 (c.Unary one.Invert kind.Unsigned (c.Const 0))) c.End))) }) (s.Then 1 (s.Set ([]) ([])) s.NoBlock (s.Then 2 (s.Set ([]) ([])) s.NoBlock (s.Then 3 (s.Fall ([]) ([])) s.NoBlock s.End))) ≡ (RefusedAt 3 10 1)
unfolding computing
random_604 = refl

random_605 : body_verdict (record { predicates = ((record { name = name_E; args = ([]); cases = ((record { opened = []; facts = ([]); locals = []; items = ([]) }) ∷ []) }) ∷ []); specs = ((record { is_void = true; name = name_f; params = (name_n0 ∷ []); vars = ((name_a0, sort.Int) ∷ []); pre = (record { opened = []; facts = ((Rel relation.Le (Number (pos 1)) (Var 0 sort.Int)) ∷ (Rel relation.Le (Var 0 sort.Int) (Number (pos 9))) ∷ []); locals = ((name_n0, (Of unary.Vi (Var 0 sort.Int))) ∷ []); items = ([]) }); post = (record { opened = []; facts = ([]); locals = []; items = ([]) }) }) ∷ (record { is_void = false; name = name_main; params = ([]); vars = []; pre = (record { opened = []; facts = ([]); locals = []; items = ([]) }); post = (record { opened = []; facts = ((Rel relation.Eq (Var 0 sort.Val) (Of unary.Vi (Number (pos 0)))) ∷ []); locals = []; items = ([]) }) }) ∷ []) }) (record { is_void = true; name = name_f; params = (name_n0 ∷ []); vars = ((name_a0, sort.Int) ∷ []); pre = (record { opened = []; facts = ((Rel relation.Le (Number (pos 1)) (Var 0 sort.Int)) ∷ (Rel relation.Le (Var 0 sort.Int) (Number (pos 9))) ∷ []); locals = ((name_n0, (Of unary.Vi (Var 0 sort.Int))) ∷ []); items = ([]) }); post = (record { opened = []; facts = ([]); locals = []; items = ([]) }) }) (record { temps = (name_n0 ∷ name_s ∷ name_t ∷ name_i ∷ name_x1 ∷ name_d0 ∷ name_p1 ∷ name_q1 ∷ []); body = (c.Then (c.Set 1 (c.Const 2)) (c.Then (c.Set 2 (c.Const 3)) (c.Then (c.Set 4 (c.Unary one.Invert kind.Unsigned (c.Const 0))) c.End))) }) (s.Then 1 (s.Set ([]) ([])) s.NoBlock (s.Then 2 (s.Set ([]) ([])) s.NoBlock (s.Then 3 (s.Set ([]) ([])) s.NoBlock (s.Then 4 (s.Set ([]) ([])) s.NoBlock (s.Then 5 (s.Fall ([]) ([])) s.NoBlock s.End))))) ≡ (RefusedAt 4 2 1)
unfolding computing
random_605 = refl

random_606 : body_verdict (record { predicates = ([]); specs = ((record { is_void = false; name = name_main; params = ([]); vars = []; pre = (record { opened = []; facts = ([]); locals = []; items = ([]) }); post = (record { opened = []; facts = ([]); locals = []; items = ([]) }) }) ∷ []) }) (record { is_void = false; name = name_main; params = ([]); vars = []; pre = (record { opened = []; facts = ([]); locals = []; items = ([]) }); post = (record { opened = []; facts = ([]); locals = []; items = ([]) }) }) (record { temps = (name_s ∷ name_t ∷ name_i ∷ name_x1 ∷ name_d0 ∷ name_p1 ∷ name_q1 ∷ []); body = (c.Then (c.Set 0 (c.Const 0)) (c.Then (c.Set 1 (c.Const 1)) (c.Then (c.Set 3 (c.Binary two.Add kind.Unsigned (c.Const 4294967295) (c.Const 1))) (c.Then (c.Set 2 (c.Const 0)) (c.Then (c.Loop (c.Then (c.If (c.Nonzero kind.Signed (c.Binary two.Lt kind.Signed (c.Temp 2) (c.Const 3))) (c.Then c.Skip (c.Then (c.Set 2 (c.Binary two.Add kind.Signed (c.Temp 2) (c.Const 1))) (c.Then c.Skip c.End))) (c.Then c.Break c.End)) c.End)) (c.Then (c.Set 1 (c.Binary two.Add kind.Signed (c.Const 2) (c.Binary two.Div kind.Signed (c.Temp 1) (c.Const 1)))) (c.Then (c.Return (Some (c.Binary two.Add kind.Signed (c.Temp 2) (c.Const 1)))) c.End))))))) }) (s.Then 1 (s.Set ([]) ([])) s.NoBlock (s.Then 2 (s.Set ([]) ([])) s.NoBlock (s.Then 3 (s.Set ([]) ([])) s.NoBlock (s.Then 4 (s.Set ([]) ([])) s.NoBlock (s.Then 5 (s.While (record { opened = (sort.Int ∷ []); facts = ((Rel relation.Le (Number (pos 0)) (Var 0 sort.Int)) ∷ (Rel relation.Le (Var 0 sort.Int) (Number (pos 3))) ∷ []); locals = ((name_s, (Of unary.Vi (Number (pos 0)))) ∷ (name_t, (Of unary.Vi (Number (pos 1)))) ∷ (name_i, (Of unary.Vi (Var 0 sort.Int))) ∷ (name_x1, (Of unary.Vi (Number (pos 0)))) ∷ []); items = ([]) }) (record { opened = (sort.Int ∷ []); facts = ((Rel relation.Le (Number (pos 0)) (Var 0 sort.Int)) ∷ (Rel relation.Le (Var 0 sort.Int) (Number (pos 3))) ∷ (Rel relation.Le (Number (pos 3)) (Var 0 sort.Int)) ∷ []); locals = ((name_s, (Of unary.Vi (Number (pos 0)))) ∷ (name_t, (Of unary.Vi (Number (pos 1)))) ∷ (name_i, (Of unary.Vi (Var 0 sort.Int))) ∷ (name_x1, (Of unary.Vi (Number (pos 0)))) ∷ []); items = ([]) }) (name_k2 ∷ []) ([]) (name_k1 ∷ [])) (s.WithBlock (s.Then 6 (s.Meet ((Number (pos 0)) ∷ []) ([])) s.NoBlock s.End) (s.WithBlock (s.Then 7 (s.If ([]) ((record { lines = ((line.Comb (((pos 1), 0) ∷ ((pos 1), 2) ∷ [])) ∷ []) }) ∷ (record { lines = ((line.Comb (((pos 1), 1) ∷ ((pos 1), 2) ∷ [])) ∷ []) }) ∷ []) ([]) ([])) (s.WithBlock (s.Then 8 s.Skip s.NoBlock (s.Then 9 (s.Set ([]) ((record { lines = ((line.Comb (((pos 1), 0) ∷ ((pos 1), 3) ∷ [])) ∷ []) }) ∷ (record { lines = ((line.Comb (((pos 1), 1) ∷ ((pos 1), 3) ∷ [])) ∷ []) }) ∷ (record { lines = ((line.Comb (((pos 1), 0) ∷ ((pos 1), 3) ∷ [])) ∷ []) }) ∷ (record { lines = ((line.Comb (((pos 1), 1) ∷ ((pos 1), 3) ∷ [])) ∷ []) }) ∷ [])) s.NoBlock (s.Then 10 s.Skip s.NoBlock (s.Then 11 (s.Fall ((Of2 binary.Add (Named name_k1) (Number (pos 1))) ∷ []) ((record { lines = ((line.Comb (((pos 1), 0) ∷ ((pos 1), 3) ∷ [])) ∷ []) }) ∷ [])) s.NoBlock s.End)))) (s.WithBlock (s.Then 12 (s.Break ((Named name_k1) ∷ []) ([])) s.NoBlock s.End) s.NoBlock)) s.End) s.NoBlock)) (s.Then 13 (s.Set ([]) ([])) s.NoBlock (s.Then 14 (s.Return ([]) ([]) ((record { lines = ((line.Comb (((pos 1), 0) ∷ ((pos 1), 3) ∷ [])) ∷ []) }) ∷ (record { lines = ((line.Comb (((pos 1), 1) ∷ ((pos 1), 3) ∷ [])) ∷ []) }) ∷ (record { lines = ((line.Comb (((pos 1), 0) ∷ ((pos 1), 3) ∷ [])) ∷ []) }) ∷ (record { lines = ((line.Comb (((pos 1), 1) ∷ ((pos 1), 3) ∷ [])) ∷ []) }) ∷ [])) s.NoBlock s.End))))))) ≡ Accepted
unfolding computing
random_606 = refl

random_607 : body_verdict (record { predicates = ([]); specs = ((record { is_void = false; name = name_main; params = ([]); vars = []; pre = (record { opened = []; facts = ([]); locals = []; items = ([]) }); post = (record { opened = []; facts = ([]); locals = []; items = ([]) }) }) ∷ []) }) (record { is_void = false; name = name_main; params = ([]); vars = []; pre = (record { opened = []; facts = ([]); locals = []; items = ([]) }); post = (record { opened = []; facts = ([]); locals = []; items = ([]) }) }) (record { temps = (name_s ∷ name_t ∷ name_i ∷ name_x1 ∷ name_d0 ∷ name_p1 ∷ name_q1 ∷ []); body = (c.Then (c.Set 0 (c.Const 0)) (c.Then (c.Set 1 (c.Const 1)) (c.Then (c.Set 3 (c.Binary two.Add kind.Unsigned (c.Const 4294967295) (c.Const 1))) (c.Then (c.Set 2 (c.Const 0)) (c.Then (c.Loop (c.Then (c.If (c.Nonzero kind.Signed (c.Binary two.Lt kind.Signed (c.Temp 2) (c.Const 3))) (c.Then c.Skip (c.Then (c.Set 2 (c.Binary two.Add kind.Signed (c.Temp 2) (c.Const 1))) (c.Then c.Skip c.End))) (c.Then c.Break c.End)) c.End)) (c.Then (c.Set 1 (c.Binary two.Add kind.Signed (c.Const 2) (c.Binary two.Div kind.Signed (c.Temp 1) (c.Const 1)))) (c.Then (c.Return (Some (c.Binary two.Add kind.Signed (c.Temp 2) (c.Const 1)))) c.End))))))) }) (s.Then 1 (s.Set ([]) ([])) s.NoBlock (s.Then 2 (s.Return ([]) ([]) ((record { lines = ((line.Comb (((pos 1), 0) ∷ ((pos 1), 3) ∷ [])) ∷ []) }) ∷ (record { lines = ((line.Comb (((pos 1), 1) ∷ ((pos 1), 3) ∷ [])) ∷ []) }) ∷ (record { lines = ((line.Comb (((pos 1), 0) ∷ ((pos 1), 3) ∷ [])) ∷ []) }) ∷ (record { lines = ((line.Comb (((pos 1), 1) ∷ ((pos 1), 3) ∷ [])) ∷ []) }) ∷ [])) s.NoBlock (s.Then 3 (s.Set ([]) ([])) s.NoBlock (s.Then 4 (s.Set ([]) ([])) s.NoBlock (s.Then 5 (s.Set ([]) ([])) s.NoBlock (s.Then 6 (s.While (record { opened = (sort.Int ∷ []); facts = ((Rel relation.Le (Number (pos 0)) (Var 0 sort.Int)) ∷ (Rel relation.Le (Var 0 sort.Int) (Number (pos 3))) ∷ []); locals = ((name_s, (Of unary.Vi (Number (pos 0)))) ∷ (name_t, (Of unary.Vi (Number (pos 1)))) ∷ (name_i, (Of unary.Vi (Var 0 sort.Int))) ∷ (name_x1, (Of unary.Vi (Number (pos 0)))) ∷ []); items = ([]) }) (record { opened = (sort.Int ∷ []); facts = ((Rel relation.Le (Number (pos 0)) (Var 0 sort.Int)) ∷ (Rel relation.Le (Var 0 sort.Int) (Number (pos 3))) ∷ (Rel relation.Le (Number (pos 3)) (Var 0 sort.Int)) ∷ []); locals = ((name_s, (Of unary.Vi (Number (pos 0)))) ∷ (name_t, (Of unary.Vi (Number (pos 1)))) ∷ (name_i, (Of unary.Vi (Var 0 sort.Int))) ∷ (name_x1, (Of unary.Vi (Number (pos 0)))) ∷ []); items = ([]) }) (name_k2 ∷ []) ([]) (name_k1 ∷ [])) (s.WithBlock (s.Then 7 (s.Meet ((Number (pos 0)) ∷ []) ([])) s.NoBlock s.End) (s.WithBlock (s.Then 8 (s.If ([]) ((record { lines = ((line.Comb (((pos 1), 0) ∷ ((pos 1), 2) ∷ [])) ∷ []) }) ∷ (record { lines = ((line.Comb (((pos 1), 1) ∷ ((pos 1), 2) ∷ [])) ∷ []) }) ∷ []) ([]) ([])) (s.WithBlock (s.Then 9 s.Skip s.NoBlock (s.Then 10 (s.Set ([]) ((record { lines = ((line.Comb (((pos 1), 0) ∷ ((pos 1), 3) ∷ [])) ∷ []) }) ∷ (record { lines = ((line.Comb (((pos 1), 1) ∷ ((pos 1), 3) ∷ [])) ∷ []) }) ∷ (record { lines = ((line.Comb (((pos 1), 0) ∷ ((pos 1), 3) ∷ [])) ∷ []) }) ∷ (record { lines = ((line.Comb (((pos 1), 1) ∷ ((pos 1), 3) ∷ [])) ∷ []) }) ∷ [])) s.NoBlock (s.Then 11 s.Skip s.NoBlock (s.Then 12 (s.Fall ((Of2 binary.Add (Named name_k1) (Number (pos 1))) ∷ []) ((record { lines = ((line.Comb (((pos 1), 0) ∷ ((pos 1), 3) ∷ [])) ∷ []) }) ∷ [])) s.NoBlock s.End)))) (s.WithBlock (s.Then 13 (s.Break ((Named name_k1) ∷ []) ([])) s.NoBlock s.End) s.NoBlock)) s.End) s.NoBlock)) (s.Then 14 (s.Set ([]) ([])) s.NoBlock (s.Then 15 (s.Return ([]) ([]) ((record { lines = ((line.Comb (((pos 1), 0) ∷ ((pos 1), 3) ∷ [])) ∷ []) }) ∷ (record { lines = ((line.Comb (((pos 1), 1) ∷ ((pos 1), 3) ∷ [])) ∷ []) }) ∷ (record { lines = ((line.Comb (((pos 1), 0) ∷ ((pos 1), 3) ∷ [])) ∷ []) }) ∷ (record { lines = ((line.Comb (((pos 1), 1) ∷ ((pos 1), 3) ∷ [])) ∷ []) }) ∷ [])) s.NoBlock s.End)))))))) ≡ (RefusedAt 2 9 1)
unfolding computing
random_607 = refl

random_608 : body_verdict (record { predicates = ([]); specs = ((record { is_void = false; name = name_main; params = ([]); vars = []; pre = (record { opened = []; facts = ([]); locals = []; items = ([]) }); post = (record { opened = []; facts = ([]); locals = []; items = ([]) }) }) ∷ []) }) (record { is_void = false; name = name_main; params = ([]); vars = []; pre = (record { opened = []; facts = ([]); locals = []; items = ([]) }); post = (record { opened = []; facts = ([]); locals = []; items = ([]) }) }) (record { temps = (name_s ∷ name_t ∷ name_i ∷ name_x1 ∷ name_d0 ∷ name_p1 ∷ name_q1 ∷ []); body = (c.Then (c.Set 0 (c.Const 0)) (c.Then (c.Set 1 (c.Const 1)) (c.Then (c.Set 3 (c.Binary two.Add kind.Unsigned (c.Const 4294967295) (c.Const 1))) (c.Then (c.Set 2 (c.Const 0)) (c.Then (c.Loop (c.Then (c.If (c.Nonzero kind.Signed (c.Binary two.Lt kind.Signed (c.Temp 2) (c.Const 3))) (c.Then c.Skip (c.Then (c.Set 2 (c.Binary two.Add kind.Signed (c.Temp 2) (c.Const 1))) (c.Then c.Skip c.End))) (c.Then c.Break c.End)) c.End)) (c.Then (c.Set 1 (c.Binary two.Add kind.Signed (c.Const 2) (c.Binary two.Div kind.Signed (c.Temp 1) (c.Const 1)))) (c.Then (c.Return (Some (c.Binary two.Add kind.Signed (c.Temp 2) (c.Const 1)))) c.End))))))) }) (s.Then 1 (s.Set ([]) ([])) s.NoBlock (s.Then 2 (s.Set ([]) ([])) s.NoBlock (s.Then 3 (s.Set ([]) ([])) s.NoBlock (s.Then 4 (s.Set ([]) ([])) s.NoBlock (s.Then 5 (s.While (record { opened = (sort.Int ∷ []); facts = ((Rel relation.Le (Number (pos 0)) (Var 0 sort.Int)) ∷ (Rel relation.Le (Var 0 sort.Int) (Number (pos 3))) ∷ []); locals = ((name_s, (Of unary.Vi (Number (pos 0)))) ∷ (name_t, (Of unary.Vi (Number (pos 1)))) ∷ (name_i, (Of unary.Vi (Var 0 sort.Int))) ∷ (name_x1, (Of unary.Vi (Number (pos 0)))) ∷ []); items = ([]) }) (record { opened = (sort.Int ∷ []); facts = ((Rel relation.Le (Number (pos 0)) (Var 0 sort.Int)) ∷ (Rel relation.Le (Var 0 sort.Int) (Number (pos 3))) ∷ (Rel relation.Le (Number (pos 3)) (Var 0 sort.Int)) ∷ []); locals = ((name_s, (Of unary.Vi (Number (pos 0)))) ∷ (name_t, (Of unary.Vi (Number (pos 1)))) ∷ (name_i, (Of unary.Vi (Var 0 sort.Int))) ∷ (name_x1, (Of unary.Vi (Number (pos 0)))) ∷ []); items = ([]) }) (name_k2 ∷ []) ([]) (name_k1 ∷ [])) (s.WithBlock (s.Then 6 (s.Meet ((Number (pos 0)) ∷ []) ([])) s.NoBlock s.End) (s.WithBlock (s.Then 7 (s.If ([]) ((record { lines = ((line.Comb (((pos 1), 0) ∷ ((pos 1), 2) ∷ [])) ∷ []) }) ∷ (record { lines = ((line.Comb (((pos 1), 1) ∷ ((pos 2147483647), 2) ∷ [])) ∷ []) }) ∷ []) ([]) ([])) (s.WithBlock (s.Then 8 s.Skip s.NoBlock (s.Then 9 (s.Set ([]) ((record { lines = ((line.Comb (((pos 1), 0) ∷ ((pos 1), 3) ∷ [])) ∷ []) }) ∷ (record { lines = ((line.Comb (((pos 1), 1) ∷ ((pos 1), 3) ∷ [])) ∷ []) }) ∷ (record { lines = ((line.Comb (((pos 1), 0) ∷ ((pos 1), 3) ∷ [])) ∷ []) }) ∷ (record { lines = ((line.Comb (((pos 1), 1) ∷ ((pos 1), 3) ∷ [])) ∷ []) }) ∷ [])) s.NoBlock (s.Then 10 s.Skip s.NoBlock (s.Then 11 (s.Fall ((Of2 binary.Add (Named name_k1) (Number (pos 1))) ∷ []) ((record { lines = ((line.Comb (((pos 1), 0) ∷ ((pos 1), 3) ∷ [])) ∷ []) }) ∷ [])) s.NoBlock s.End)))) (s.WithBlock (s.Then 12 (s.Break ((Named name_k1) ∷ []) ([])) s.NoBlock s.End) s.NoBlock)) s.End) s.NoBlock)) (s.Then 13 (s.Set ([]) ([])) s.NoBlock (s.Then 14 (s.Return ([]) ([]) ((record { lines = ((line.Comb (((pos 1), 0) ∷ ((pos 1), 3) ∷ [])) ∷ []) }) ∷ (record { lines = ((line.Comb (((pos 1), 1) ∷ ((pos 1), 3) ∷ [])) ∷ []) }) ∷ (record { lines = ((line.Comb (((pos 1), 0) ∷ ((pos 1), 3) ∷ [])) ∷ []) }) ∷ (record { lines = ((line.Comb (((pos 1), 1) ∷ ((pos 1), 3) ∷ [])) ∷ []) }) ∷ [])) s.NoBlock s.End))))))) ≡ (RefusedAt 7 5 3)
unfolding computing
random_608 = refl

random_609 : body_verdict (record { predicates = ([]); specs = ((record { is_void = false; name = name_main; params = ([]); vars = []; pre = (record { opened = []; facts = ([]); locals = []; items = ([]) }); post = (record { opened = []; facts = ([]); locals = []; items = ([]) }) }) ∷ []) }) (record { is_void = false; name = name_main; params = ([]); vars = []; pre = (record { opened = []; facts = ([]); locals = []; items = ([]) }); post = (record { opened = []; facts = ([]); locals = []; items = ([]) }) }) (record { temps = (name_s ∷ name_t ∷ name_i ∷ name_x1 ∷ name_d0 ∷ name_p1 ∷ name_q1 ∷ []); body = (c.Then (c.Set 0 (c.Const 0)) (c.Then (c.Set 1 (c.Const 1)) (c.Then (c.Set 3 (c.Binary two.Add kind.Unsigned (c.Const 4294967295) (c.Const 1))) (c.Then (c.Set 2 (c.Const 0)) (c.Then (c.Loop (c.Then (c.If (c.Nonzero kind.Signed (c.Binary two.Lt kind.Signed (c.Temp 2) (c.Const 3))) (c.Then c.Skip (c.Then (c.Set 2 (c.Binary two.Add kind.Signed (c.Temp 2) (c.Const 1))) (c.Then c.Skip c.End))) (c.Then c.Break c.End)) c.End)) (c.Then (c.Set 1 (c.Binary two.Add kind.Signed (c.Const 2) (c.Binary two.Div kind.Signed (c.Temp 1) (c.Const 1)))) (c.Then (c.Return (Some (c.Binary two.Add kind.Signed (c.Temp 2) (c.Const 1)))) c.End))))))) }) (s.Then 1 (s.Set ([]) ([])) s.NoBlock (s.Then 2 (s.Set ([]) ([])) s.NoBlock (s.Then 3 (s.Set ([]) ([])) s.NoBlock (s.Then 4 (s.Set ([]) ([])) s.NoBlock (s.Then 5 (s.While (record { opened = (sort.Int ∷ []); facts = ((Rel relation.Le (Number (pos 0)) (Var 0 sort.Int)) ∷ (Rel relation.Le (Var 0 sort.Int) (Number (pos 3))) ∷ []); locals = ((name_s, (Of unary.Vi (Number (pos 0)))) ∷ (name_t, (Of unary.Vi (Number (pos 1)))) ∷ (name_i, (Of unary.Vi (Var 0 sort.Int))) ∷ (name_x1, (Of unary.Vi (Number (pos 0)))) ∷ []); items = ([]) }) (record { opened = (sort.Int ∷ []); facts = ((Rel relation.Le (Number (pos 0)) (Var 0 sort.Int)) ∷ (Rel relation.Le (Var 0 sort.Int) (Number (pos 3))) ∷ (Rel relation.Le (Number (pos 3)) (Var 0 sort.Int)) ∷ []); locals = ((name_s, (Of unary.Vi (Number (pos 0)))) ∷ (name_t, (Of unary.Vi (Number (pos 1)))) ∷ (name_i, (Of unary.Vi (Var 0 sort.Int))) ∷ (name_x1, (Of unary.Vi (Number (pos 0)))) ∷ []); items = ([]) }) (name_k2 ∷ []) ([]) (name_k1 ∷ [])) (s.WithBlock (s.Then 6 (s.Meet ((Number (pos 0)) ∷ []) ([])) s.NoBlock s.End) (s.WithBlock (s.Then 7 (s.If ([]) ((record { lines = ((line.Comb (((pos 1), 0) ∷ ((pos 64), 2) ∷ [])) ∷ []) }) ∷ (record { lines = ((line.Comb (((pos 1), 1) ∷ ((pos 1), 2) ∷ [])) ∷ []) }) ∷ []) ([]) ([])) (s.WithBlock (s.Then 8 s.Skip s.NoBlock (s.Then 9 (s.Set ([]) ((record { lines = ((line.Comb (((pos 1), 0) ∷ ((pos 1), 3) ∷ [])) ∷ []) }) ∷ (record { lines = ((line.Comb (((pos 1), 1) ∷ ((pos 1), 3) ∷ [])) ∷ []) }) ∷ (record { lines = ((line.Comb (((pos 1), 0) ∷ ((pos 1), 3) ∷ [])) ∷ []) }) ∷ (record { lines = ((line.Comb (((pos 1), 1) ∷ ((pos 1), 3) ∷ [])) ∷ []) }) ∷ [])) s.NoBlock (s.Then 10 s.Skip s.NoBlock (s.Then 11 (s.Fall ((Of2 binary.Add (Named name_k1) (Number (pos 1))) ∷ []) ((record { lines = ((line.Comb (((pos 1), 0) ∷ ((pos 1), 3) ∷ [])) ∷ []) }) ∷ [])) s.NoBlock s.End)))) (s.WithBlock (s.Then 12 (s.Break ((Named name_k1) ∷ []) ([])) s.NoBlock s.End) s.NoBlock)) s.End) s.NoBlock)) (s.Then 13 (s.Set ([]) ([])) s.NoBlock (s.Then 14 (s.Return ([]) ([]) ((record { lines = ((line.Comb (((pos 1), 0) ∷ ((pos 1), 3) ∷ [])) ∷ []) }) ∷ (record { lines = ((line.Comb (((pos 1), 1) ∷ ((pos 1), 3) ∷ [])) ∷ []) }) ∷ (record { lines = ((line.Comb (((pos 1), 0) ∷ ((pos 1), 3) ∷ [])) ∷ []) }) ∷ (record { lines = ((line.Comb (((pos 1), 1) ∷ ((pos 1), 3) ∷ [])) ∷ []) }) ∷ [])) s.NoBlock s.End))))))) ≡ (RefusedAt 7 5 3)
unfolding computing
random_609 = refl

random_610 : body_verdict (record { predicates = ([]); specs = ((record { is_void = false; name = name_main; params = ([]); vars = []; pre = (record { opened = []; facts = ([]); locals = []; items = ([]) }); post = (record { opened = []; facts = ([]); locals = []; items = ([]) }) }) ∷ []) }) (record { is_void = false; name = name_main; params = ([]); vars = []; pre = (record { opened = []; facts = ([]); locals = []; items = ([]) }); post = (record { opened = []; facts = ([]); locals = []; items = ([]) }) }) (record { temps = (name_s ∷ name_t ∷ name_i ∷ name_x1 ∷ name_d0 ∷ name_p1 ∷ name_q1 ∷ []); body = (c.Then (c.Set 0 (c.Const 0)) (c.Then (c.Set 1 (c.Const 1)) (c.Then (c.Set 3 (c.Binary two.Add kind.Unsigned (c.Const 4294967295) (c.Const 1))) (c.Then (c.Set 2 (c.Const 0)) (c.Then (c.Loop (c.Then (c.If (c.Nonzero kind.Signed (c.Binary two.Lt kind.Signed (c.Temp 2) (c.Const 3))) (c.Then c.Skip (c.Then (c.Set 2 (c.Binary two.Add kind.Signed (c.Temp 2) (c.Const 1))) (c.Then c.Skip c.End))) (c.Then c.Break c.End)) c.End)) (c.Then (c.Set 1 (c.Binary two.Add kind.Signed (c.Const 2) (c.Binary two.Div kind.Signed (c.Temp 1) (c.Const 1)))) (c.Then (c.Return (Some (c.Binary two.Add kind.Signed (c.Temp 2) (c.Const 1)))) c.End))))))) }) (s.Then 1 (s.Set ([]) ([])) s.NoBlock (s.Then 2 (s.Share 0 (Number (pos 32)) ([])) s.NoBlock (s.Then 3 (s.Set ([]) ([])) s.NoBlock (s.Then 4 (s.Set ([]) ([])) s.NoBlock (s.Then 5 (s.Set ([]) ([])) s.NoBlock (s.Then 6 (s.While (record { opened = (sort.Int ∷ []); facts = ((Rel relation.Le (Number (pos 0)) (Var 0 sort.Int)) ∷ (Rel relation.Le (Var 0 sort.Int) (Number (pos 3))) ∷ []); locals = ((name_s, (Of unary.Vi (Number (pos 0)))) ∷ (name_t, (Of unary.Vi (Number (pos 1)))) ∷ (name_i, (Of unary.Vi (Var 0 sort.Int))) ∷ (name_x1, (Of unary.Vi (Number (pos 0)))) ∷ []); items = ([]) }) (record { opened = (sort.Int ∷ []); facts = ((Rel relation.Le (Number (pos 0)) (Var 0 sort.Int)) ∷ (Rel relation.Le (Var 0 sort.Int) (Number (pos 3))) ∷ (Rel relation.Le (Number (pos 3)) (Var 0 sort.Int)) ∷ []); locals = ((name_s, (Of unary.Vi (Number (pos 0)))) ∷ (name_t, (Of unary.Vi (Number (pos 1)))) ∷ (name_i, (Of unary.Vi (Var 0 sort.Int))) ∷ (name_x1, (Of unary.Vi (Number (pos 0)))) ∷ []); items = ([]) }) (name_k2 ∷ []) ([]) (name_k1 ∷ [])) (s.WithBlock (s.Then 7 (s.Meet ((Number (pos 0)) ∷ []) ([])) s.NoBlock s.End) (s.WithBlock (s.Then 8 (s.If ([]) ((record { lines = ((line.Comb (((pos 1), 0) ∷ ((pos 1), 2) ∷ [])) ∷ []) }) ∷ (record { lines = ((line.Comb (((pos 1), 1) ∷ ((pos 1), 2) ∷ [])) ∷ []) }) ∷ []) ([]) ([])) (s.WithBlock (s.Then 9 s.Skip s.NoBlock (s.Then 10 (s.Set ([]) ((record { lines = ((line.Comb (((pos 1), 0) ∷ ((pos 1), 3) ∷ [])) ∷ []) }) ∷ (record { lines = ((line.Comb (((pos 1), 1) ∷ ((pos 1), 3) ∷ [])) ∷ []) }) ∷ (record { lines = ((line.Comb (((pos 1), 0) ∷ ((pos 1), 3) ∷ [])) ∷ []) }) ∷ (record { lines = ((line.Comb (((pos 1), 1) ∷ ((pos 1), 3) ∷ [])) ∷ []) }) ∷ [])) s.NoBlock (s.Then 11 s.Skip s.NoBlock (s.Then 12 (s.Fall ((Of2 binary.Add (Named name_k1) (Number (pos 1))) ∷ []) ((record { lines = ((line.Comb (((pos 1), 0) ∷ ((pos 1), 3) ∷ [])) ∷ []) }) ∷ [])) s.NoBlock s.End)))) (s.WithBlock (s.Then 13 (s.Break ((Named name_k1) ∷ []) ([])) s.NoBlock s.End) s.NoBlock)) s.End) s.NoBlock)) (s.Then 14 (s.Set ([]) ([])) s.NoBlock (s.Then 15 (s.Return ([]) ([]) ((record { lines = ((line.Comb (((pos 1), 0) ∷ ((pos 1), 3) ∷ [])) ∷ []) }) ∷ (record { lines = ((line.Comb (((pos 1), 1) ∷ ((pos 1), 3) ∷ [])) ∷ []) }) ∷ (record { lines = ((line.Comb (((pos 1), 0) ∷ ((pos 1), 3) ∷ [])) ∷ []) }) ∷ (record { lines = ((line.Comb (((pos 1), 1) ∷ ((pos 1), 3) ∷ [])) ∷ []) }) ∷ [])) s.NoBlock s.End)))))))) ≡ (RefusedAt 2 31 1)
unfolding computing
random_610 = refl

random_611 : body_verdict (record { predicates = ([]); specs = ((record { is_void = false; name = name_main; params = ([]); vars = []; pre = (record { opened = []; facts = ([]); locals = []; items = ([]) }); post = (record { opened = []; facts = ([]); locals = []; items = ([]) }) }) ∷ []) }) (record { is_void = false; name = name_main; params = ([]); vars = []; pre = (record { opened = []; facts = ([]); locals = []; items = ([]) }); post = (record { opened = []; facts = ([]); locals = []; items = ([]) }) }) (record { temps = (name_s ∷ name_t ∷ name_i ∷ name_x1 ∷ name_d0 ∷ name_p1 ∷ name_q1 ∷ []); body = (c.Then (c.Set 0 (c.Const 1)) (c.Then (c.Set 1 (c.Const 1)) (c.Then (c.Set 3 (c.Binary two.Add kind.Unsigned (c.Const 4294967295) (c.Const 1))) (c.Then (c.Set 2 (c.Const 0)) (c.Then (c.Loop (c.Then (c.If (c.Nonzero kind.Signed (c.Binary two.Lt kind.Signed (c.Temp 2) (c.Const 3))) (c.Then c.Skip (c.Then (c.Set 2 (c.Binary two.Add kind.Signed (c.Temp 2) (c.Const 1))) (c.Then c.Skip c.End))) (c.Then c.Break c.End)) c.End)) (c.Then (c.Set 1 (c.Binary two.Add kind.Signed (c.Const 2) (c.Binary two.Div kind.Signed (c.Temp 1) (c.Const 1)))) (c.Then (c.Return (Some (c.Binary two.Add kind.Signed (c.Temp 2) (c.Const 1)))) c.End))))))) }) (s.Then 1 (s.Set ([]) ([])) s.NoBlock (s.Then 2 (s.Set ([]) ([])) s.NoBlock (s.Then 3 (s.Set ([]) ([])) s.NoBlock (s.Then 4 (s.Set ([]) ([])) s.NoBlock (s.Then 5 (s.While (record { opened = (sort.Int ∷ []); facts = ((Rel relation.Le (Number (pos 0)) (Var 0 sort.Int)) ∷ (Rel relation.Le (Var 0 sort.Int) (Number (pos 3))) ∷ []); locals = ((name_s, (Of unary.Vi (Number (pos 0)))) ∷ (name_t, (Of unary.Vi (Number (pos 1)))) ∷ (name_i, (Of unary.Vi (Var 0 sort.Int))) ∷ (name_x1, (Of unary.Vi (Number (pos 0)))) ∷ []); items = ([]) }) (record { opened = (sort.Int ∷ []); facts = ((Rel relation.Le (Number (pos 0)) (Var 0 sort.Int)) ∷ (Rel relation.Le (Var 0 sort.Int) (Number (pos 3))) ∷ (Rel relation.Le (Number (pos 3)) (Var 0 sort.Int)) ∷ []); locals = ((name_s, (Of unary.Vi (Number (pos 0)))) ∷ (name_t, (Of unary.Vi (Number (pos 1)))) ∷ (name_i, (Of unary.Vi (Var 0 sort.Int))) ∷ (name_x1, (Of unary.Vi (Number (pos 0)))) ∷ []); items = ([]) }) (name_k2 ∷ []) ([]) (name_k1 ∷ [])) (s.WithBlock (s.Then 6 (s.Meet ((Number (pos 0)) ∷ []) ([])) s.NoBlock s.End) (s.WithBlock (s.Then 7 (s.If ([]) ((record { lines = ((line.Comb (((pos 1), 0) ∷ ((pos 1), 2) ∷ [])) ∷ []) }) ∷ (record { lines = ((line.Comb (((pos 1), 1) ∷ ((pos 1), 2) ∷ [])) ∷ []) }) ∷ []) ([]) ([])) (s.WithBlock (s.Then 8 s.Skip s.NoBlock (s.Then 9 (s.Set ([]) ((record { lines = ((line.Comb (((pos 1), 0) ∷ ((pos 1), 3) ∷ [])) ∷ []) }) ∷ (record { lines = ((line.Comb (((pos 1), 1) ∷ ((pos 1), 3) ∷ [])) ∷ []) }) ∷ (record { lines = ((line.Comb (((pos 1), 0) ∷ ((pos 1), 3) ∷ [])) ∷ []) }) ∷ (record { lines = ((line.Comb (((pos 1), 1) ∷ ((pos 1), 3) ∷ [])) ∷ []) }) ∷ [])) s.NoBlock (s.Then 10 s.Skip s.NoBlock (s.Then 11 (s.Fall ((Of2 binary.Add (Named name_k1) (Number (pos 1))) ∷ []) ((record { lines = ((line.Comb (((pos 1), 0) ∷ ((pos 1), 3) ∷ [])) ∷ []) }) ∷ [])) s.NoBlock s.End)))) (s.WithBlock (s.Then 12 (s.Break ((Named name_k1) ∷ []) ([])) s.NoBlock s.End) s.NoBlock)) s.End) s.NoBlock)) (s.Then 13 (s.Set ([]) ([])) s.NoBlock (s.Then 14 (s.Return ([]) ([]) ((record { lines = ((line.Comb (((pos 1), 0) ∷ ((pos 1), 3) ∷ [])) ∷ []) }) ∷ (record { lines = ((line.Comb (((pos 1), 1) ∷ ((pos 1), 3) ∷ [])) ∷ []) }) ∷ (record { lines = ((line.Comb (((pos 1), 0) ∷ ((pos 1), 3) ∷ [])) ∷ []) }) ∷ (record { lines = ((line.Comb (((pos 1), 1) ∷ ((pos 1), 3) ∷ [])) ∷ []) }) ∷ [])) s.NoBlock s.End))))))) ≡ (RefusedAt 6 37 4)
unfolding computing
random_611 = refl

random_612 : body_verdict (record { predicates = ([]); specs = ((record { is_void = false; name = name_main; params = ([]); vars = []; pre = (record { opened = []; facts = ([]); locals = []; items = ([]) }); post = (record { opened = []; facts = ([]); locals = []; items = ([]) }) }) ∷ []) }) (record { is_void = false; name = name_main; params = ([]); vars = []; pre = (record { opened = []; facts = ([]); locals = []; items = ([]) }); post = (record { opened = []; facts = ([]); locals = []; items = ([]) }) }) (record { temps = (name_s ∷ name_t ∷ name_i ∷ name_x1 ∷ name_d0 ∷ name_p1 ∷ name_q1 ∷ []); body = (c.Then (c.Set 0 (c.Const 0)) (c.Then (c.Set 1 (c.Const 1)) (c.Then (c.Set 3 (c.Binary two.Add kind.Unsigned (c.Const 4294967295) (c.Const 1))) (c.Then (c.Set 2 (c.Const 0)) (c.Then (c.Loop (c.Then (c.If (c.Nonzero kind.Signed (c.Binary two.Lt kind.Signed (c.Temp 2) (c.Const 3))) (c.Then c.Skip (c.Then (c.Set 2 (c.Binary two.Add kind.Signed (c.Temp 2) (c.Const 1))) (c.Then c.Skip c.End))) (c.Then c.Break c.End)) c.End)) (c.Then (c.Set 1 (c.Binary two.Add kind.Signed (c.Const 2) (c.Binary two.Div kind.Signed (c.Temp 1) (c.Const 1)))) (c.Then (c.Return (Some (c.Binary two.Add kind.Signed (c.Temp 2) (c.Const 1)))) c.End))))))) }) (s.Then 1 (s.Set ([]) ([])) s.NoBlock (s.Then 2 (s.Set ([]) ([])) s.NoBlock (s.Then 3 (s.Set ([]) ([])) s.NoBlock (s.Then 4 (s.Set ([]) ([])) s.NoBlock (s.Then 5 (s.While (record { opened = (sort.Int ∷ []); facts = ((Rel relation.Le (Number (pos 0)) (Var 0 sort.Int)) ∷ (Rel relation.Le (Var 0 sort.Int) (Number (pos 3))) ∷ []); locals = ((name_s, (Of unary.Vi (Number (pos 0)))) ∷ (name_t, (Of unary.Vi (Number (pos 1)))) ∷ (name_i, (Of unary.Vi (Var 0 sort.Int))) ∷ (name_x1, (Of unary.Vi (Number (pos 0)))) ∷ []); items = ([]) }) (record { opened = (sort.Int ∷ []); facts = ((Rel relation.Le (Number (pos 0)) (Var 0 sort.Int)) ∷ (Rel relation.Le (Var 0 sort.Int) (Number (pos 3))) ∷ (Rel relation.Le (Number (pos 3)) (Var 0 sort.Int)) ∷ []); locals = ((name_s, (Of unary.Vi (Number (pos 0)))) ∷ (name_t, (Of unary.Vi (Number (pos 1)))) ∷ (name_i, (Of unary.Vi (Var 0 sort.Int))) ∷ (name_x1, (Of unary.Vi (Number (pos 0)))) ∷ []); items = ([]) }) (name_k2 ∷ []) ([]) (name_k1 ∷ [])) (s.WithBlock (s.Then 6 (s.Meet ((Number (pos 0)) ∷ []) ([])) s.NoBlock s.End) (s.WithBlock (s.Then 7 (s.If ([]) ((record { lines = ((line.Comb (((pos 1), 0) ∷ ((pos 1), 2) ∷ [])) ∷ []) }) ∷ (record { lines = ((line.Comb (((pos 1), 1) ∷ ((pos 1), 2) ∷ [])) ∷ []) }) ∷ []) ([]) ([])) (s.WithBlock (s.Then 8 s.Skip s.NoBlock (s.Then 9 (s.Set ([]) ((record { lines = ((line.Comb (((pos 1), 0) ∷ ((pos 1), 3) ∷ [])) ∷ []) }) ∷ (record { lines = ((line.Comb (((pos 1), 1) ∷ ((pos 1), 3) ∷ [])) ∷ []) }) ∷ (record { lines = ((line.Comb (((pos 1), 0) ∷ ((pos 1), 3) ∷ [])) ∷ []) }) ∷ (record { lines = ((line.Comb (((pos 1), 1) ∷ ((pos 1), 3) ∷ [])) ∷ []) }) ∷ [])) s.NoBlock (s.Then 10 s.Skip s.NoBlock (s.Then 11 (s.Fall ((Of2 binary.Add (Named name_k1) (Number (pos 1))) ∷ []) ((record { lines = ((line.Comb (((pos 1), 0) ∷ ((pos 1), 3) ∷ [])) ∷ []) }) ∷ [])) s.NoBlock s.End)))) (s.WithBlock (s.Then 12 (s.Share 0 (Number (pos 32)) ([])) s.NoBlock (s.Then 13 (s.Break ((Named name_k1) ∷ []) ([])) s.NoBlock s.End)) s.NoBlock)) s.End) s.NoBlock)) (s.Then 14 (s.Set ([]) ([])) s.NoBlock (s.Then 15 (s.Return ([]) ([]) ((record { lines = ((line.Comb (((pos 1), 0) ∷ ((pos 1), 3) ∷ [])) ∷ []) }) ∷ (record { lines = ((line.Comb (((pos 1), 1) ∷ ((pos 1), 3) ∷ [])) ∷ []) }) ∷ (record { lines = ((line.Comb (((pos 1), 0) ∷ ((pos 1), 3) ∷ [])) ∷ []) }) ∷ (record { lines = ((line.Comb (((pos 1), 1) ∷ ((pos 1), 3) ∷ [])) ∷ []) }) ∷ [])) s.NoBlock s.End))))))) ≡ (RefusedAt 12 31 1)
unfolding computing
random_612 = refl

random_613 : body_verdict (record { predicates = ([]); specs = ((record { is_void = false; name = name_main; params = ([]); vars = []; pre = (record { opened = []; facts = ([]); locals = []; items = ([]) }); post = (record { opened = []; facts = ([]); locals = []; items = ([]) }) }) ∷ []) }) (record { is_void = false; name = name_main; params = ([]); vars = []; pre = (record { opened = []; facts = ([]); locals = []; items = ([]) }); post = (record { opened = []; facts = ([]); locals = []; items = ([]) }) }) (record { temps = (name_s ∷ name_t ∷ name_i ∷ name_x1 ∷ name_d0 ∷ name_p1 ∷ name_q1 ∷ []); body = (c.Then (c.Set 0 (c.Const 0)) (c.Then (c.Set 1 (c.Const 1)) (c.Then (c.Set 3 (c.Binary two.Add kind.Unsigned (c.Const 4294967295) (c.Const 1))) (c.Then (c.Set 2 (c.Const 0)) (c.Then (c.Loop (c.Then (c.If (c.Nonzero kind.Signed (c.Binary two.Lt kind.Signed (c.Temp 2) (c.Const 3))) (c.Then c.Skip (c.Then (c.Set 2 (c.Binary two.Add kind.Signed (c.Temp 2) (c.Const 1))) (c.Then c.Skip c.End))) (c.Then c.Break c.End)) c.End)) (c.Then (c.Set 1 (c.Binary two.Add kind.Signed (c.Const 2) (c.Binary two.Div kind.Signed (c.Temp 1) (c.Const 1)))) (c.Then (c.Return (Some (c.Binary two.Add kind.Signed (c.Temp 2) (c.Const 1)))) c.End))))))) }) (s.Then 1 (s.Set ([]) ([])) s.NoBlock (s.Then 2 (s.Set ([]) ([])) s.NoBlock (s.Then 3 (s.Set ([]) ([])) s.NoBlock (s.Then 4 (s.Set ([]) ([])) s.NoBlock (s.Then 5 (s.While (record { opened = (sort.Int ∷ []); facts = ((Rel relation.Le (Number (pos 0)) (Var 0 sort.Int)) ∷ (Rel relation.Le (Var 0 sort.Int) (Number (pos 3))) ∷ []); locals = ((name_s, (Of unary.Vi (Number (pos 0)))) ∷ (name_t, (Of unary.Vi (Number (pos 1)))) ∷ (name_i, (Of unary.Vi (Var 0 sort.Int))) ∷ (name_x1, (Of unary.Vi (Number (pos 0)))) ∷ []); items = ([]) }) (record { opened = (sort.Int ∷ []); facts = ((Rel relation.Le (Number (pos 0)) (Named name_i0)) ∷ (Rel relation.Le (Named name_i0) (Number (pos 3))) ∷ (Rel relation.Le (Number (pos 3)) (Named name_i0)) ∷ []); locals = ((name_s, (Of unary.Vi (Number (pos 0)))) ∷ (name_t, (Of unary.Vi (Number (pos 1)))) ∷ (name_i, (Of unary.Vi (Named name_i0))) ∷ (name_x1, (Of unary.Vi (Number (pos 0)))) ∷ []); items = ([]) }) (name_k2 ∷ []) ([]) (name_k1 ∷ [])) (s.WithBlock (s.Then 6 (s.Meet ((Number (pos 0)) ∷ []) ([])) s.NoBlock s.End) (s.WithBlock (s.Then 7 (s.If ([]) ((record { lines = ((line.Comb (((pos 1), 0) ∷ ((pos 1), 2) ∷ [])) ∷ []) }) ∷ (record { lines = ((line.Comb (((pos 1), 1) ∷ ((pos 1), 2) ∷ [])) ∷ []) }) ∷ []) ([]) ([])) (s.WithBlock (s.Then 8 s.Skip s.NoBlock (s.Then 9 (s.Set ([]) ((record { lines = ((line.Comb (((pos 1), 0) ∷ ((pos 1), 3) ∷ [])) ∷ []) }) ∷ (record { lines = ((line.Comb (((pos 1), 1) ∷ ((pos 1), 3) ∷ [])) ∷ []) }) ∷ (record { lines = ((line.Comb (((pos 1), 0) ∷ ((pos 1), 3) ∷ [])) ∷ []) }) ∷ (record { lines = ((line.Comb (((pos 1), 1) ∷ ((pos 1), 3) ∷ [])) ∷ []) }) ∷ [])) s.NoBlock (s.Then 10 (s.Fall ((Of2 binary.Add (Named name_k1) (Number (pos 1))) ∷ []) ((record { lines = ((line.Comb (((pos 1), 0) ∷ ((pos 1), 3) ∷ [])) ∷ []) }) ∷ [])) s.NoBlock (s.Then 11 s.Skip s.NoBlock s.End)))) (s.WithBlock (s.Then 12 (s.Break ((Named name_k1) ∷ []) ([])) s.NoBlock s.End) s.NoBlock)) s.End) s.NoBlock)) (s.Then 13 (s.Set ([]) ([])) s.NoBlock (s.Then 14 (s.Return ([]) ([]) ((record { lines = ((line.Comb (((pos 1), 0) ∷ ((pos 1), 3) ∷ [])) ∷ []) }) ∷ (record { lines = ((line.Comb (((pos 1), 1) ∷ ((pos 1), 3) ∷ [])) ∷ []) }) ∷ (record { lines = ((line.Comb (((pos 1), 0) ∷ ((pos 1), 3) ∷ [])) ∷ []) }) ∷ (record { lines = ((line.Comb (((pos 1), 1) ∷ ((pos 1), 3) ∷ [])) ∷ []) }) ∷ [])) s.NoBlock s.End))))))) ≡ (RefusedAt 5 6 1)
unfolding computing
random_613 = refl

random_614 : body_verdict (record { predicates = ([]); specs = ((record { is_void = false; name = name_main; params = ([]); vars = []; pre = (record { opened = []; facts = ([]); locals = []; items = ([]) }); post = (record { opened = []; facts = ([]); locals = []; items = ([]) }) }) ∷ []) }) (record { is_void = false; name = name_main; params = ([]); vars = []; pre = (record { opened = []; facts = ([]); locals = []; items = ([]) }); post = (record { opened = []; facts = ([]); locals = []; items = ([]) }) }) (record { temps = (name_s ∷ name_t ∷ name_i ∷ name_x1 ∷ name_d0 ∷ name_p1 ∷ name_q1 ∷ []); body = (c.Then (c.Set 0 (c.Const 0)) (c.Then (c.Set 1 (c.Const 1)) (c.Then (c.Set 3 (c.Binary two.Add kind.Unsigned (c.Const 4294967295) (c.Const 1))) (c.Then (c.Set 2 (c.Const 0)) (c.Then (c.Loop (c.Then (c.If (c.Nonzero kind.Signed (c.Binary two.Lt kind.Signed (c.Temp 2) (c.Const 3))) (c.Then c.Skip (c.Then (c.Set 2 (c.Binary two.Add kind.Signed (c.Temp 2) (c.Const 1))) (c.Then c.Skip c.End))) (c.Then c.Break c.End)) c.End)) (c.Then (c.Set 1 (c.Binary two.Add kind.Signed (c.Const 2) (c.Binary two.Div kind.Signed (c.Temp 1) (c.Const 1)))) (c.Then (c.Return (Some (c.Binary two.Add kind.Signed (c.Temp 2) (c.Const 1)))) c.End))))))) }) (s.Then 1 (s.Set ([]) ([])) s.NoBlock (s.Then 2 (s.Set ([]) ([])) s.NoBlock (s.Then 3 (s.Set ([]) ([])) s.NoBlock (s.Then 4 (s.While (record { opened = (sort.Int ∷ []); facts = ((Rel relation.Le (Number (pos 0)) (Var 0 sort.Int)) ∷ (Rel relation.Le (Var 0 sort.Int) (Number (pos 3))) ∷ []); locals = ((name_s, (Of unary.Vi (Number (pos 0)))) ∷ (name_t, (Of unary.Vi (Number (pos 1)))) ∷ (name_i, (Of unary.Vi (Var 0 sort.Int))) ∷ (name_x1, (Of unary.Vi (Number (pos 0)))) ∷ []); items = ([]) }) (record { opened = (sort.Int ∷ []); facts = ((Rel relation.Le (Number (pos 0)) (Var 0 sort.Int)) ∷ (Rel relation.Le (Var 0 sort.Int) (Number (pos 3))) ∷ (Rel relation.Le (Number (pos 3)) (Var 0 sort.Int)) ∷ []); locals = ((name_s, (Of unary.Vi (Number (pos 0)))) ∷ (name_t, (Of unary.Vi (Number (pos 1)))) ∷ (name_i, (Of unary.Vi (Var 0 sort.Int))) ∷ (name_x1, (Of unary.Vi (Number (pos 0)))) ∷ []); items = ([]) }) (name_k2 ∷ []) ([]) (name_k1 ∷ [])) (s.WithBlock (s.Then 5 (s.Meet ((Number (pos 0)) ∷ []) ([])) s.NoBlock s.End) (s.WithBlock (s.Then 6 (s.If ([]) ((record { lines = ((line.Comb (((pos 1), 0) ∷ ((pos 1), 2) ∷ [])) ∷ []) }) ∷ (record { lines = ((line.Comb (((pos 1), 1) ∷ ((pos 1), 2) ∷ [])) ∷ []) }) ∷ []) ([]) ([])) (s.WithBlock (s.Then 7 s.Skip s.NoBlock (s.Then 8 (s.Set ([]) ((record { lines = ((line.Comb (((pos 1), 0) ∷ ((pos 1), 3) ∷ [])) ∷ []) }) ∷ (record { lines = ((line.Comb (((pos 1), 1) ∷ ((pos 1), 3) ∷ [])) ∷ []) }) ∷ (record { lines = ((line.Comb (((pos 1), 0) ∷ ((pos 1), 3) ∷ [])) ∷ []) }) ∷ (record { lines = ((line.Comb (((pos 1), 1) ∷ ((pos 1), 3) ∷ [])) ∷ []) }) ∷ [])) s.NoBlock (s.Then 9 s.Skip s.NoBlock (s.Then 10 (s.Fall ((Of2 binary.Add (Named name_k1) (Number (pos 1))) ∷ []) ((record { lines = ((line.Comb (((pos 1), 0) ∷ ((pos 1), 3) ∷ [])) ∷ []) }) ∷ [])) s.NoBlock s.End)))) (s.WithBlock (s.Then 11 (s.Break ((Named name_k1) ∷ []) ([])) s.NoBlock s.End) s.NoBlock)) s.End) s.NoBlock)) (s.Then 12 (s.Set ([]) ([])) s.NoBlock (s.Then 13 (s.Return ([]) ([]) ((record { lines = ((line.Comb (((pos 1), 0) ∷ ((pos 1), 3) ∷ [])) ∷ []) }) ∷ (record { lines = ((line.Comb (((pos 1), 1) ∷ ((pos 1), 3) ∷ [])) ∷ []) }) ∷ (record { lines = ((line.Comb (((pos 1), 0) ∷ ((pos 1), 3) ∷ [])) ∷ []) }) ∷ (record { lines = ((line.Comb (((pos 1), 1) ∷ ((pos 1), 3) ∷ [])) ∷ []) }) ∷ [])) s.NoBlock s.End)))))) ≡ (RefusedAt 4 6 1)
unfolding computing
random_614 = refl

random_615 : body_verdict (record { predicates = ([]); specs = ((record { is_void = false; name = name_main; params = ([]); vars = []; pre = (record { opened = []; facts = ([]); locals = []; items = ([]) }); post = (record { opened = []; facts = ([]); locals = []; items = ([]) }) }) ∷ []) }) (record { is_void = false; name = name_main; params = ([]); vars = []; pre = (record { opened = []; facts = ([]); locals = []; items = ([]) }); post = (record { opened = []; facts = ([]); locals = []; items = ([]) }) }) (record { temps = (name_s ∷ name_t ∷ name_i ∷ name_x1 ∷ name_d0 ∷ name_p1 ∷ name_q1 ∷ []); body = (c.Then (c.Set 0 (c.Const 0)) (c.Then (c.Set 1 (c.Const 1)) (c.Then (c.Set 3 (c.Binary two.Add kind.Unsigned (c.Const 4294967295) (c.Const 1))) (c.Then (c.Set 2 (c.Const 0)) (c.Then (c.Loop (c.Then (c.If (c.Nonzero kind.Signed (c.Binary two.Lt kind.Signed (c.Temp 2) (c.Const 3))) (c.Then c.Skip (c.Then (c.Set 2 (c.Binary two.Add kind.Signed (c.Temp 2) (c.Const 1))) (c.Then c.Skip c.End))) (c.Then c.Break c.End)) c.End)) (c.Then (c.Set 1 (c.Binary two.Add kind.Signed (c.Const 2) (c.Binary two.Div kind.Signed (c.Temp 1) (c.Const 1)))) (c.Then (c.Return (Some (c.Binary two.Add kind.Signed (c.Temp 2) (c.Const 1)))) c.End))))))) }) (s.Then 1 (s.Set ([]) ([])) s.NoBlock (s.Then 2 (s.Set ([]) ([])) s.NoBlock (s.Then 3 (s.Set ([]) ([])) s.NoBlock (s.Then 4 (s.Set ([]) ([])) s.NoBlock (s.Then 5 (s.While (record { opened = (sort.Int ∷ []); facts = ((Rel relation.Le (Number (pos 0)) (Var 0 sort.Int)) ∷ (Rel relation.Le (Var 0 sort.Int) (Number (pos 3))) ∷ []); locals = ((name_s, (Of unary.Vi (Number (pos 0)))) ∷ (name_t, (Of unary.Vi (Number (pos 1)))) ∷ (name_i, (Of unary.Vi (Var 0 sort.Int))) ∷ (name_x1, (Of unary.Vi (Number (pos 0)))) ∷ []); items = ([]) }) (record { opened = (sort.Int ∷ []); facts = ((Rel relation.Le (Number (pos 0)) (Var 0 sort.Int)) ∷ (Rel relation.Le (Var 0 sort.Int) (Number (pos 3))) ∷ (Rel relation.Le (Number (pos 3)) (Var 0 sort.Int)) ∷ []); locals = ((name_s, (Of unary.Vi (Number (pos 0)))) ∷ (name_t, (Of unary.Vi (Number (pos 1)))) ∷ (name_i, (Of unary.Vi (Var 0 sort.Int))) ∷ (name_x1, (Of unary.Vi (Number (pos 0)))) ∷ []); items = ([]) }) (name_k2 ∷ []) ([]) (name_k1 ∷ [])) (s.WithBlock (s.Then 6 (s.Meet ((Number (pos 0)) ∷ []) ([])) s.NoBlock s.End) (s.WithBlock (s.Then 7 (s.If ([]) ((record { lines = ((line.Comb (((pos 1), 0) ∷ ((pos 1), 2) ∷ [])) ∷ []) }) ∷ (record { lines = ((line.Comb (((pos 1), 1) ∷ ((pos 1), 2) ∷ [])) ∷ []) }) ∷ []) ([]) ([])) (s.WithBlock (s.Then 8 s.Skip s.NoBlock (s.Then 9 (s.Set ([]) ((record { lines = ((line.Comb (((pos 1), 0) ∷ ((pos 1), 3) ∷ [])) ∷ []) }) ∷ (record { lines = ((line.Comb (((pos 1), 1) ∷ ((pos 1), 3) ∷ [])) ∷ []) }) ∷ (record { lines = ((line.Comb (((pos 1), 0) ∷ ((pos 1), 3) ∷ [])) ∷ []) }) ∷ (record { lines = ((line.Comb (((pos 1), 1) ∷ ((pos 1), 3) ∷ [])) ∷ []) }) ∷ [])) s.NoBlock (s.Then 10 s.Skip s.NoBlock (s.Then 11 (s.Law name_len_pos (Nil ∷ []) ([])) s.NoBlock s.End)))) (s.WithBlock (s.Then 12 (s.Break ((Named name_k1) ∷ []) ([])) s.NoBlock s.End) s.NoBlock)) s.End) s.NoBlock)) (s.Then 13 (s.Set ([]) ([])) s.NoBlock (s.Then 14 (s.Return ([]) ([]) ((record { lines = ((line.Comb (((pos 1), 0) ∷ ((pos 1), 3) ∷ [])) ∷ []) }) ∷ (record { lines = ((line.Comb (((pos 1), 1) ∷ ((pos 1), 3) ∷ [])) ∷ []) }) ∷ (record { lines = ((line.Comb (((pos 1), 0) ∷ ((pos 1), 3) ∷ [])) ∷ []) }) ∷ (record { lines = ((line.Comb (((pos 1), 1) ∷ ((pos 1), 3) ∷ [])) ∷ []) }) ∷ [])) s.NoBlock s.End))))))) ≡ (RefusedAt 12 0 10)
unfolding computing
random_615 = refl

random_616 : body_verdict (record { predicates = ([]); specs = ((record { is_void = false; name = name_f; params = (name_n0 ∷ name_u1 ∷ name_r2 ∷ []); vars = ((name_a0, sort.Int) ∷ (name_b1, sort.Int) ∷ (name_e2, sort.Val) ∷ (name_l2, sort.List) ∷ []); pre = (record { opened = []; facts = ((Rel relation.Le (Number (pos 1)) (Var 0 sort.Int)) ∷ (Rel relation.Le (Var 0 sort.Int) (Number (pos 100))) ∷ (Rel relation.Eq (Of unary.Len (Var 3 sort.List)) (Number (pos 1))) ∷ []); locals = ((name_n0, (Of unary.Vi (Var 0 sort.Int))) ∷ (name_u1, (Of unary.Vi (Var 1 sort.Int))) ∷ (name_r2, (Var 2 sort.Val)) ∷ []); items = ((Data (Number (pos 64)) (Var 2 sort.Val) (Var 3 sort.List)) ∷ []) }); post = (record { opened = []; facts = ((Rel relation.Eq (Var 4 sort.Val) (Of unary.Vi (Number (pos 0)))) ∷ []); locals = []; items = ((Data (Number (pos 64)) (Var 2 sort.Val) (Of3 ternary.Upd (Of3 ternary.Upd (Of3 ternary.Upd (Var 3 sort.List) (Number (pos 0)) (Of unary.Vi (Number (pos 4)))) (Number (pos 0)) (Of unary.Vi (Number (pos 3)))) (Number (pos 0)) (Of unary.Vi (Number (pos 1))))) ∷ []) }) }) ∷ (record { is_void = false; name = name_main; params = ([]); vars = []; pre = (record { opened = []; facts = ([]); locals = []; items = ([]) }); post = (record { opened = []; facts = ((Rel relation.Eq (Var 0 sort.Val) (Of unary.Vi (Number (pos 0)))) ∷ []); locals = []; items = ([]) }) }) ∷ []) }) (record { is_void = false; name = name_f; params = (name_n0 ∷ name_u1 ∷ name_r2 ∷ []); vars = ((name_a0, sort.Int) ∷ (name_b1, sort.Int) ∷ (name_e2, sort.Val) ∷ (name_l2, sort.List) ∷ []); pre = (record { opened = []; facts = ((Rel relation.Le (Number (pos 1)) (Var 0 sort.Int)) ∷ (Rel relation.Le (Var 0 sort.Int) (Number (pos 100))) ∷ (Rel relation.Eq (Of unary.Len (Var 3 sort.List)) (Number (pos 1))) ∷ []); locals = ((name_n0, (Of unary.Vi (Var 0 sort.Int))) ∷ (name_u1, (Of unary.Vi (Var 1 sort.Int))) ∷ (name_r2, (Var 2 sort.Val)) ∷ []); items = ((Data (Number (pos 64)) (Var 2 sort.Val) (Var 3 sort.List)) ∷ []) }); post = (record { opened = []; facts = ((Rel relation.Eq (Var 4 sort.Val) (Of unary.Vi (Number (pos 0)))) ∷ []); locals = []; items = ((Data (Number (pos 64)) (Var 2 sort.Val) (Of3 ternary.Upd (Of3 ternary.Upd (Of3 ternary.Upd (Var 3 sort.List) (Number (pos 0)) (Of unary.Vi (Number (pos 4)))) (Number (pos 0)) (Of unary.Vi (Number (pos 3)))) (Number (pos 0)) (Of unary.Vi (Number (pos 1))))) ∷ []) }) }) (record { temps = (name_n0 ∷ name_u1 ∷ name_r2 ∷ name_s ∷ name_t ∷ name_i ∷ name_x1 ∷ name_d0 ∷ name_p1 ∷ name_q1 ∷ []); body = (c.Then (c.Set 3 (c.Const 3)) (c.Then (c.Set 4 (c.Const 2)) (c.Then (c.Set 3 (c.Const 1)) (c.Then c.Skip (c.Then (c.Store (root.Temp 2) (c.Index kind.Signed (c.Const 0) c.Here) (c.Binary two.Add kind.Signed (c.Temp 4) (c.Const 2))) (c.Then (c.Set 6 (c.Binary two.Rem kind.Unsigned (c.Const 1) (c.Const 3))) (c.Then (c.Store (root.Temp 2) (c.Index kind.Signed (c.Const 0) c.Here) (c.Const 3)) (c.Then (c.Store (root.Temp 2) (c.Index kind.Signed (c.Const 0) c.Here) (c.Const 1)) (c.Then (c.Return (Some (c.Const 0))) c.End))))))))) }) (s.Then 1 (s.Set ([]) ([])) s.NoBlock (s.Then 2 (s.Set ([]) ([])) s.NoBlock (s.Then 3 (s.Block 2 (record { opened = []; facts = ([]); locals = ((name_n0, (Of unary.Vi (Named name_a0))) ∷ (name_u1, (Of unary.Vi (Named name_b1))) ∷ (name_r2, (Named name_e2)) ∷ (name_s, (Of unary.Vi (Number (pos 1)))) ∷ (name_t, (Of unary.Vi (Number (pos 2)))) ∷ []); items = ((Data (Number (pos 64)) (Named name_e2) (Named name_l2)) ∷ []) }) ([]) ([])) (s.WithBlock (s.Then 4 (s.Set ([]) ([])) s.NoBlock (s.Then 5 s.Skip s.NoBlock (s.Then 6 (s.Fall ([]) ([])) s.NoBlock s.End))) s.NoBlock) (s.Then 7 (s.Store 0 ([]) ((record { lines = ((line.Comb (((pos 1), 3) ∷ ((pos 1), 4) ∷ [])) ∷ []) }) ∷ [])) s.NoBlock (s.Then 8 (s.Law name_len_upd ((Named name_l2) ∷ (Number (pos 0)) ∷ (Of unary.Vi (Number (pos 4))) ∷ []) ([])) s.NoBlock (s.Then 9 (s.Set ([]) ([])) s.NoBlock (s.Then 10 (s.Store 0 ([]) ((record { lines = ((line.Comb (((pos 1), 5) ∷ ((pos 1), 3) ∷ ((pos 1), 6) ∷ [])) ∷ []) }) ∷ [])) s.NoBlock (s.Then 11 (s.Law name_len_upd ((Of3 ternary.Upd (Named name_l2) (Number (pos 0)) (Of unary.Vi (Number (pos 4)))) ∷ (Number (pos 0)) ∷ (Of unary.Vi (Number (pos 3))) ∷ []) ([])) s.NoBlock (s.Then 12 (s.Store 0 ([]) ((record { lines = ((line.Comb (((pos 1), 3) ∷ ((pos 1), 5) ∷ [])) ∷ (line.Comb (((pos 1), 9) ∷ ((pos 1), 7) ∷ [])) ∷ (line.Comb (((pos 1), 10) ∷ ((pos 1), 8) ∷ [])) ∷ []) }) ∷ [])) s.NoBlock (s.Then 13 (s.Law name_len_upd ((Of3 ternary.Upd (Of3 ternary.Upd (Named name_l2) (Number (pos 0)) (Of unary.Vi (Number (pos 4)))) (Number (pos 0)) (Of unary.Vi (Number (pos 3)))) ∷ (Number (pos 0)) ∷ (Of unary.Vi (Number (pos 1))) ∷ []) ([])) s.NoBlock (s.Then 14 (s.Return ([]) ([]) ([])) s.NoBlock s.End))))))))))) ≡ Accepted
unfolding computing
random_616 = refl

random_617 : body_verdict (record { predicates = ([]); specs = ((record { is_void = false; name = name_f; params = (name_n0 ∷ name_u1 ∷ name_r2 ∷ []); vars = ((name_a0, sort.Int) ∷ (name_b1, sort.Int) ∷ (name_e2, sort.Val) ∷ (name_l2, sort.List) ∷ []); pre = (record { opened = []; facts = ((Rel relation.Le (Number (pos 1)) (Var 0 sort.Int)) ∷ (Rel relation.Le (Var 0 sort.Int) (Number (pos 100))) ∷ (Rel relation.Eq (Of unary.Len (Var 3 sort.List)) (Number (pos 1))) ∷ []); locals = ((name_n0, (Of unary.Vi (Var 0 sort.Int))) ∷ (name_u1, (Of unary.Vi (Var 1 sort.Int))) ∷ (name_r2, (Var 2 sort.Val)) ∷ []); items = ((Data (Number (pos 64)) (Var 2 sort.Val) (Var 3 sort.List)) ∷ []) }); post = (record { opened = []; facts = ((Rel relation.Eq (Var 4 sort.Val) (Of unary.Vi (Number (pos 0)))) ∷ []); locals = []; items = ((Data (Number (pos 64)) (Var 2 sort.Val) (Of3 ternary.Upd (Of3 ternary.Upd (Of3 ternary.Upd (Var 3 sort.List) (Number (pos 0)) (Of unary.Vi (Number (pos 4)))) (Number (pos 0)) (Of unary.Vi (Number (pos 3)))) (Number (pos 0)) (Of unary.Vi (Number (pos 1))))) ∷ []) }) }) ∷ (record { is_void = false; name = name_main; params = ([]); vars = []; pre = (record { opened = []; facts = ([]); locals = []; items = ([]) }); post = (record { opened = []; facts = ((Rel relation.Eq (Var 0 sort.Val) (Of unary.Vi (Number (pos 0)))) ∷ []); locals = []; items = ([]) }) }) ∷ []) }) (record { is_void = false; name = name_main; params = ([]); vars = []; pre = (record { opened = []; facts = ([]); locals = []; items = ([]) }); post = (record { opened = []; facts = ((Rel relation.Eq (Var 0 sort.Val) (Of unary.Vi (Number (pos 0)))) ∷ []); locals = []; items = ([]) }) }) (record { temps = ([]); body = (c.Then (c.Return (Some (c.Const 0))) c.End) }) (s.Then 1 (s.Return ([]) ([]) ([])) s.NoBlock s.End) ≡ Accepted
unfolding computing
random_617 = refl

random_618 : body_verdict (record { predicates = ([]); specs = ((record { is_void = false; name = name_f; params = (name_n0 ∷ name_u1 ∷ name_r2 ∷ []); vars = ((name_a0, sort.Int) ∷ (name_b1, sort.Int) ∷ (name_e2, sort.Val) ∷ (name_l2, sort.List) ∷ []); pre = (record { opened = []; facts = ((Rel relation.Le (Number (pos 1)) (Var 0 sort.Int)) ∷ (Rel relation.Le (Var 0 sort.Int) (Number (pos 100))) ∷ (Rel relation.Eq (Of unary.Len (Var 3 sort.List)) (Number (pos 1))) ∷ []); locals = ((name_n0, (Of unary.Vi (Var 0 sort.Int))) ∷ (name_u1, (Of unary.Vi (Var 1 sort.Int))) ∷ (name_r2, (Var 2 sort.Val)) ∷ []); items = ((Data (Number (pos 64)) (Var 2 sort.Val) (Var 3 sort.List)) ∷ []) }); post = (record { opened = []; facts = ((Rel relation.Eq (Var 4 sort.Val) (Of unary.Vi (Number (pos 0)))) ∷ []); locals = []; items = ((Data (Number (pos 64)) (Var 2 sort.Val) (Of3 ternary.Upd (Of3 ternary.Upd (Of3 ternary.Upd (Var 3 sort.List) (Number (pos 0)) (Of unary.Vi (Number (pos 4)))) (Number (pos 0)) (Of unary.Vi (Number (pos 3)))) (Number (pos 0)) (Of unary.Vi (Number (pos 1))))) ∷ []) }) }) ∷ (record { is_void = false; name = name_main; params = ([]); vars = []; pre = (record { opened = []; facts = ([]); locals = []; items = ([]) }); post = (record { opened = []; facts = ((Rel relation.Eq (Var 0 sort.Val) (Of unary.Vi (Number (pos 0)))) ∷ []); locals = []; items = ([]) }) }) ∷ []) }) (record { is_void = false; name = name_f; params = (name_n0 ∷ name_u1 ∷ name_r2 ∷ []); vars = ((name_a0, sort.Int) ∷ (name_b1, sort.Int) ∷ (name_e2, sort.Val) ∷ (name_l2, sort.List) ∷ []); pre = (record { opened = []; facts = ((Rel relation.Le (Number (pos 1)) (Var 0 sort.Int)) ∷ (Rel relation.Le (Var 0 sort.Int) (Number (pos 100))) ∷ (Rel relation.Eq (Of unary.Len (Var 3 sort.List)) (Number (pos 1))) ∷ []); locals = ((name_n0, (Of unary.Vi (Var 0 sort.Int))) ∷ (name_u1, (Of unary.Vi (Var 1 sort.Int))) ∷ (name_r2, (Var 2 sort.Val)) ∷ []); items = ((Data (Number (pos 64)) (Var 2 sort.Val) (Var 3 sort.List)) ∷ []) }); post = (record { opened = []; facts = ((Rel relation.Eq (Var 4 sort.Val) (Of unary.Vi (Number (pos 0)))) ∷ []); locals = []; items = ((Data (Number (pos 64)) (Var 2 sort.Val) (Of3 ternary.Upd (Of3 ternary.Upd (Of3 ternary.Upd (Var 3 sort.List) (Number (pos 0)) (Of unary.Vi (Number (pos 4)))) (Number (pos 0)) (Of unary.Vi (Number (pos 3)))) (Number (pos 0)) (Of unary.Vi (Number (pos 1))))) ∷ []) }) }) (record { temps = (name_n0 ∷ name_u1 ∷ name_r2 ∷ name_s ∷ name_t ∷ name_i ∷ name_x1 ∷ name_d0 ∷ name_p1 ∷ name_q1 ∷ []); body = (c.Then (c.Set 3 (c.Const 3)) (c.Then (c.Set 4 (c.Const 2)) (c.Then (c.Set 3 (c.Const 1)) (c.Then c.Skip (c.Then (c.Store (root.Temp 2) (c.Index kind.Signed (c.Const 0) c.Here) (c.Binary two.Add kind.Signed (c.Temp 4) (c.Const 2))) (c.Then (c.Set 6 (c.Binary two.Rem kind.Unsigned (c.Const 1) (c.Const 3))) (c.Then (c.Store (root.Temp 2) (c.Index kind.Signed (c.Const 0) c.Here) (c.Const 3)) (c.Then (c.Store (root.Temp 2) (c.Index kind.Signed (c.Const 0) c.Here) (c.Const 1)) (c.Then (c.Return (Some (c.Const 0))) c.End))))))))) }) (s.Then 1 (s.Set ([]) ([])) s.NoBlock (s.Then 2 (s.Set ([]) ([])) s.NoBlock (s.Then 3 (s.Block 2 (record { opened = []; facts = ([]); locals = ((name_n0, (Of unary.Vi (Named name_a0))) ∷ (name_u1, (Of unary.Vi (Named name_b1))) ∷ (name_r2, (Named name_e2)) ∷ (name_s, (Of unary.Vi (Number (pos 1)))) ∷ (name_t, (Of unary.Vi (Number (pos 2)))) ∷ []); items = ((Data (Number (pos 64)) (Named name_e2) (Named name_l2)) ∷ []) }) ([]) ([])) (s.WithBlock (s.Then 4 (s.Set ([]) ([])) s.NoBlock (s.Then 5 s.Skip s.NoBlock (s.Then 6 (s.Fall ([]) ([])) s.NoBlock s.End))) s.NoBlock) (s.Then 7 (s.Store 0 ([]) ((record { lines = ((line.Comb (((pos 1), 3) ∷ ((pos 1), 5) ∷ [])) ∷ (line.Comb (((pos 1), 9) ∷ ((pos 1), 7) ∷ [])) ∷ (line.Comb (((pos 1), 10) ∷ ((pos 1), 8) ∷ [])) ∷ []) }) ∷ [])) s.NoBlock (s.Then 8 (s.Law name_len_upd ((Named name_l2) ∷ (Number (pos 0)) ∷ (Of unary.Vi (Number (pos 4))) ∷ []) ([])) s.NoBlock (s.Then 9 (s.Set ([]) ([])) s.NoBlock (s.Then 10 (s.Store 0 ([]) ((record { lines = ((line.Comb (((pos 1), 5) ∷ ((pos 1), 3) ∷ ((pos 1), 6) ∷ [])) ∷ []) }) ∷ [])) s.NoBlock (s.Then 11 (s.Law name_len_upd ((Of3 ternary.Upd (Named name_l2) (Number (pos 0)) (Of unary.Vi (Number (pos 4)))) ∷ (Number (pos 0)) ∷ (Of unary.Vi (Number (pos 3))) ∷ []) ([])) s.NoBlock (s.Then 12 (s.Store 0 ([]) ((record { lines = ((line.Comb (((pos 1), 3) ∷ ((pos 1), 4) ∷ [])) ∷ []) }) ∷ [])) s.NoBlock (s.Then 13 (s.Law name_len_upd ((Of3 ternary.Upd (Of3 ternary.Upd (Named name_l2) (Number (pos 0)) (Of unary.Vi (Number (pos 4)))) (Number (pos 0)) (Of unary.Vi (Number (pos 3)))) ∷ (Number (pos 0)) ∷ (Of unary.Vi (Number (pos 1))) ∷ []) ([])) s.NoBlock (s.Then 14 (s.Return ([]) ([]) ([])) s.NoBlock s.End))))))))))) ≡ (RefusedAt 7 4 3)
unfolding computing
random_618 = refl

random_619 : body_verdict (record { predicates = ([]); specs = ((record { is_void = false; name = name_f; params = (name_n0 ∷ name_u1 ∷ name_r2 ∷ []); vars = ((name_a0, sort.Int) ∷ (name_b1, sort.Int) ∷ (name_e2, sort.Val) ∷ (name_l2, sort.List) ∷ []); pre = (record { opened = []; facts = ((Rel relation.Le (Number (pos 1)) (Var 0 sort.Int)) ∷ (Rel relation.Le (Var 0 sort.Int) (Number (pos 100))) ∷ (Rel relation.Eq (Of unary.Len (Var 3 sort.List)) (Number (pos 1))) ∷ []); locals = ((name_n0, (Of unary.Vi (Var 0 sort.Int))) ∷ (name_u1, (Of unary.Vi (Var 1 sort.Int))) ∷ (name_r2, (Var 2 sort.Val)) ∷ []); items = ((Data (Number (pos 64)) (Var 2 sort.Val) (Var 3 sort.List)) ∷ []) }); post = (record { opened = []; facts = ((Rel relation.Eq (Var 4 sort.Val) (Of unary.Vi (Number (pos 0)))) ∷ []); locals = []; items = ((Data (Number (pos 64)) (Var 2 sort.Val) (Of3 ternary.Upd (Of3 ternary.Upd (Of3 ternary.Upd (Var 3 sort.List) (Number (pos 0)) (Of unary.Vi (Number (pos 4)))) (Number (pos 0)) (Of unary.Vi (Number (pos 3)))) (Number (pos 0)) (Of unary.Vi (Number (pos 1))))) ∷ []) }) }) ∷ (record { is_void = false; name = name_main; params = ([]); vars = []; pre = (record { opened = []; facts = ([]); locals = []; items = ([]) }); post = (record { opened = []; facts = ((Rel relation.Eq (Var 0 sort.Val) (Of unary.Vi (Number (pos 0)))) ∷ []); locals = []; items = ([]) }) }) ∷ []) }) (record { is_void = false; name = name_f; params = (name_n0 ∷ name_u1 ∷ name_r2 ∷ []); vars = ((name_a0, sort.Int) ∷ (name_b1, sort.Int) ∷ (name_e2, sort.Val) ∷ (name_l2, sort.List) ∷ []); pre = (record { opened = []; facts = ((Rel relation.Le (Number (pos 1)) (Var 0 sort.Int)) ∷ (Rel relation.Le (Var 0 sort.Int) (Number (pos 100))) ∷ (Rel relation.Eq (Of unary.Len (Var 3 sort.List)) (Number (pos 1))) ∷ []); locals = ((name_n0, (Of unary.Vi (Var 0 sort.Int))) ∷ (name_u1, (Of unary.Vi (Var 1 sort.Int))) ∷ (name_r2, (Var 2 sort.Val)) ∷ []); items = ((Data (Number (pos 64)) (Var 2 sort.Val) (Var 3 sort.List)) ∷ []) }); post = (record { opened = []; facts = ((Rel relation.Eq (Var 4 sort.Val) (Of unary.Vi (Number (pos 0)))) ∷ []); locals = []; items = ((Data (Number (pos 64)) (Var 2 sort.Val) (Of3 ternary.Upd (Of3 ternary.Upd (Of3 ternary.Upd (Var 3 sort.List) (Number (pos 0)) (Of unary.Vi (Number (pos 4)))) (Number (pos 0)) (Of unary.Vi (Number (pos 3)))) (Number (pos 0)) (Of unary.Vi (Number (pos 1))))) ∷ []) }) }) (record { temps = (name_n0 ∷ name_u1 ∷ name_r2 ∷ name_s ∷ name_t ∷ name_i ∷ name_x1 ∷ name_d0 ∷ name_p1 ∷ name_q1 ∷ []); body = (c.Then (c.Set 3 (c.Const 3)) (c.Then (c.Set 4 (c.Const 2)) (c.Then (c.Set 3 (c.Const 1)) (c.Then c.Skip (c.Then (c.Store (root.Temp 2) (c.Index kind.Signed (c.Const 0) c.Here) (c.Binary two.Add kind.Signed (c.Temp 4) (c.Const 2))) (c.Then (c.Set 6 (c.Binary two.Rem kind.Unsigned (c.Const 1) (c.Const 3))) (c.Then (c.Store (root.Temp 2) (c.Index kind.Signed (c.Const 0) c.Here) (c.Const 3)) (c.Then (c.Store (root.Temp 2) (c.Index kind.Signed (c.Const 0) c.Here) (c.Const 1)) (c.Then (c.Return (Some (c.Const 0))) c.End))))))))) }) (s.Then 1 (s.Set ([]) ([])) s.NoBlock (s.Then 2 (s.Set ([]) ([])) s.NoBlock (s.Then 3 (s.Block 2 (record { opened = []; facts = ([]); locals = ((name_n0, (Of unary.Vi (Named name_a0))) ∷ (name_u1, (Of unary.Vi (Named name_b1))) ∷ (name_r2, (Named name_e2)) ∷ (name_s, (Of unary.Vi (Number (pos 1)))) ∷ (name_t, (Of unary.Vi (Number (pos 2)))) ∷ []); items = ((Data (Number (pos 64)) (Named name_e2) (Named name_l2)) ∷ []) }) ([]) ([])) (s.WithBlock (s.Then 4 (s.Set ([]) ([])) s.NoBlock (s.Then 5 s.Skip s.NoBlock (s.Then 6 (s.Fall ([]) ([])) s.NoBlock s.End))) s.NoBlock) (s.Then 7 (s.Store 0 ([]) ((record { lines = ((line.Comb (((pos 1), 3) ∷ ((pos 1), 4) ∷ [])) ∷ []) }) ∷ [])) s.NoBlock (s.Then 8 (s.Law name_len_upd ((Named name_l2) ∷ (Number (pos 0)) ∷ (Of unary.Vi (Number (pos 4))) ∷ []) ([])) s.NoBlock (s.Then 9 (s.Set ([]) ([])) s.NoBlock (s.Then 10 (s.Store 0 ([]) ((record { lines = ((line.Comb (((pos 1), 5) ∷ ((pos 1), 3) ∷ ((pos 1), 6) ∷ [])) ∷ []) }) ∷ [])) s.NoBlock (s.Then 11 (s.Law name_len_upd ((Of3 ternary.Upd (Named name_l2) (Number (pos 0)) (Of unary.Vi (Number (pos 4)))) ∷ (Number (pos 0)) ∷ (Of unary.Vi (Number (pos 3))) ∷ []) ([])) s.NoBlock (s.Then 12 (s.Law name_len_upd ((Of3 ternary.Upd (Named name_l2) (Number (pos 0)) (Of unary.Vi (Number (pos 4)))) ∷ (Number (pos 0)) ∷ (Of unary.Vi (Number (pos 3))) ∷ []) ([])) s.NoBlock (s.Then 13 (s.Store 0 ([]) ((record { lines = ((line.Comb (((pos 1), 3) ∷ ((pos 1), 5) ∷ [])) ∷ (line.Comb (((pos 1), 9) ∷ ((pos 1), 7) ∷ [])) ∷ (line.Comb (((pos 1), 10) ∷ ((pos 1), 8) ∷ [])) ∷ []) }) ∷ [])) s.NoBlock (s.Then 14 (s.Law name_len_upd ((Of3 ternary.Upd (Of3 ternary.Upd (Named name_l2) (Number (pos 0)) (Of unary.Vi (Number (pos 4)))) (Number (pos 0)) (Of unary.Vi (Number (pos 3)))) ∷ (Number (pos 0)) ∷ (Of unary.Vi (Number (pos 1))) ∷ []) ([])) s.NoBlock (s.Then 15 (s.Return ([]) ([]) ([])) s.NoBlock s.End)))))))))))) ≡ (RefusedAt 13 4 3)
unfolding computing
random_619 = refl

random_620 : body_verdict (record { predicates = ([]); specs = ((record { is_void = false; name = name_f; params = (name_n0 ∷ name_u1 ∷ name_r2 ∷ []); vars = ((name_a0, sort.Int) ∷ (name_b1, sort.Int) ∷ (name_e2, sort.Val) ∷ (name_l2, sort.List) ∷ []); pre = (record { opened = []; facts = ((Rel relation.Le (Number (pos 1)) (Var 0 sort.Int)) ∷ (Rel relation.Le (Var 0 sort.Int) (Number (pos 100))) ∷ (Rel relation.Eq (Of unary.Len (Var 3 sort.List)) (Number (pos 1))) ∷ []); locals = ((name_n0, (Of unary.Vi (Var 0 sort.Int))) ∷ (name_u1, (Of unary.Vi (Var 1 sort.Int))) ∷ (name_r2, (Var 2 sort.Val)) ∷ []); items = ((Data (Number (pos 64)) (Var 2 sort.Val) (Var 3 sort.List)) ∷ []) }); post = (record { opened = []; facts = ((Rel relation.Eq (Var 4 sort.Val) (Of unary.Vi (Number (pos 0)))) ∷ []); locals = []; items = ((Data (Number (pos 64)) (Var 2 sort.Val) (Of3 ternary.Upd (Of3 ternary.Upd (Of3 ternary.Upd (Var 3 sort.List) (Number (pos 0)) (Of unary.Vi (Number (pos 4)))) (Number (pos 0)) (Of unary.Vi (Number (pos 3)))) (Number (pos 0)) (Of unary.Vi (Number (pos 1))))) ∷ []) }) }) ∷ (record { is_void = false; name = name_main; params = ([]); vars = []; pre = (record { opened = []; facts = ([]); locals = []; items = ([]) }); post = (record { opened = []; facts = ((Rel relation.Eq (Var 0 sort.Val) (Of unary.Vi (Number (pos 0)))) ∷ []); locals = []; items = ([]) }) }) ∷ []) }) (record { is_void = false; name = name_f; params = (name_n0 ∷ name_u1 ∷ name_r2 ∷ []); vars = ((name_a0, sort.Int) ∷ (name_b1, sort.Int) ∷ (name_e2, sort.Val) ∷ (name_l2, sort.List) ∷ []); pre = (record { opened = []; facts = ((Rel relation.Le (Number (pos 1)) (Var 0 sort.Int)) ∷ (Rel relation.Le (Var 0 sort.Int) (Number (pos 100))) ∷ (Rel relation.Eq (Of unary.Len (Var 3 sort.List)) (Number (pos 1))) ∷ []); locals = ((name_n0, (Of unary.Vi (Var 0 sort.Int))) ∷ (name_u1, (Of unary.Vi (Var 1 sort.Int))) ∷ (name_r2, (Var 2 sort.Val)) ∷ []); items = ((Data (Number (pos 64)) (Var 2 sort.Val) (Var 3 sort.List)) ∷ []) }); post = (record { opened = []; facts = ((Rel relation.Eq (Var 4 sort.Val) (Of unary.Vi (Number (pos 0)))) ∷ []); locals = []; items = ((Data (Number (pos 64)) (Var 2 sort.Val) (Of3 ternary.Upd (Of3 ternary.Upd (Of3 ternary.Upd (Var 3 sort.List) (Number (pos 0)) (Of unary.Vi (Number (pos 4)))) (Number (pos 0)) (Of unary.Vi (Number (pos 3)))) (Number (pos 0)) (Of unary.Vi (Number (pos 1))))) ∷ []) }) }) (record { temps = (name_n0 ∷ name_u1 ∷ name_r2 ∷ name_s ∷ name_t ∷ name_i ∷ name_x1 ∷ name_d0 ∷ name_p1 ∷ name_q1 ∷ []); body = (c.Then (c.Set 3 (c.Const 3)) (c.Then (c.Set 4 (c.Const 2)) (c.Then (c.Set 3 (c.Const 1)) (c.Then c.Skip (c.Then (c.Store (root.Temp 2) (c.Index kind.Signed (c.Const 0) c.Here) (c.Binary two.Add kind.Signed (c.Temp 4) (c.Const 2))) (c.Then (c.Set 6 (c.Binary two.Rem kind.Unsigned (c.Const 1) (c.Const 3))) (c.Then (c.Store (root.Temp 2) (c.Index kind.Signed (c.Const 0) c.Here) (c.Const 3)) (c.Then (c.Store (root.Temp 2) (c.Index kind.Signed (c.Const 0) c.Here) (c.Const 1)) (c.Then (c.Return (Some (c.Const 0))) c.End))))))))) }) (s.Then 1 (s.Set ([]) ([])) s.NoBlock (s.Then 2 (s.Set ([]) ([])) s.NoBlock (s.Then 3 (s.Block 2 (record { opened = []; facts = ([]); locals = ((name_n0, (Of unary.Vi (Named name_a0))) ∷ (name_u1, (Of unary.Vi (Named name_b1))) ∷ (name_r2, (Named name_e2)) ∷ (name_s, (Of unary.Vi (Number (pos 1)))) ∷ (name_t, (Of unary.Vi (Number (pos 2)))) ∷ []); items = ((Data (Number (pos 64)) (Named name_e2) (Named name_l2)) ∷ []) }) ([]) ([])) (s.WithBlock (s.Then 4 (s.Set ([]) ([])) s.NoBlock (s.Then 5 s.Skip s.NoBlock (s.Then 6 (s.Fall ([]) ([])) s.NoBlock s.End))) s.NoBlock) (s.Then 7 (s.Store 0 ([]) ((record { lines = ((line.Comb (((pos 1), 3) ∷ ((pos 1), 4) ∷ [])) ∷ []) }) ∷ [])) s.NoBlock (s.Then 8 (s.Law name_len_upd ((Named name_l2) ∷ (Number (pos 0)) ∷ (Of unary.Vi (Number (pos 4))) ∷ []) ([])) s.NoBlock (s.Then 9 (s.Set ([]) ([])) s.NoBlock (s.Then 10 (s.Store 0 ([]) ((record { lines = ((line.Comb (((pos 1), 5) ∷ ((pos 1), 3) ∷ ((pos 1), 6) ∷ [])) ∷ []) }) ∷ [])) s.NoBlock (s.Then 11 (s.Store 0 ([]) ((record { lines = ((line.Comb (((pos 1), 5) ∷ ((pos 1), 3) ∷ ((pos 1), 6) ∷ [])) ∷ []) }) ∷ [])) s.NoBlock (s.Then 12 (s.Law name_len_upd ((Of3 ternary.Upd (Named name_l2) (Number (pos 0)) (Of unary.Vi (Number (pos 4)))) ∷ (Number (pos 0)) ∷ (Of unary.Vi (Number (pos 3))) ∷ []) ([])) s.NoBlock (s.Then 13 (s.Store 0 ([]) ((record { lines = ((line.Comb (((pos 1), 3) ∷ ((pos 1), 5) ∷ [])) ∷ (line.Comb (((pos 1), 9) ∷ ((pos 1), 7) ∷ [])) ∷ (line.Comb (((pos 1), 10) ∷ ((pos 1), 8) ∷ [])) ∷ []) }) ∷ [])) s.NoBlock (s.Then 14 (s.Law name_len_upd ((Of3 ternary.Upd (Of3 ternary.Upd (Named name_l2) (Number (pos 0)) (Of unary.Vi (Number (pos 4)))) (Number (pos 0)) (Of unary.Vi (Number (pos 3)))) ∷ (Number (pos 0)) ∷ (Of unary.Vi (Number (pos 1))) ∷ []) ([])) s.NoBlock (s.Then 15 (s.Return ([]) ([]) ([])) s.NoBlock s.End)))))))))))) ≡ (RefusedAt 11 4 3)
unfolding computing
random_620 = refl

random_621 : body_verdict (record { predicates = ([]); specs = ((record { is_void = false; name = name_f; params = (name_n0 ∷ name_u1 ∷ name_r2 ∷ []); vars = ((name_a0, sort.Int) ∷ (name_b1, sort.Int) ∷ (name_e2, sort.Val) ∷ (name_l2, sort.List) ∷ []); pre = (record { opened = []; facts = ((Rel relation.Le (Number (pos 1)) (Var 0 sort.Int)) ∷ (Rel relation.Le (Var 0 sort.Int) (Number (pos 100))) ∷ (Rel relation.Eq (Of unary.Len (Var 3 sort.List)) (Number (pos 1))) ∷ []); locals = ((name_n0, (Of unary.Vi (Var 0 sort.Int))) ∷ (name_u1, (Of unary.Vi (Var 1 sort.Int))) ∷ (name_r2, (Var 2 sort.Val)) ∷ []); items = ((Data (Number (pos 64)) (Var 2 sort.Val) (Var 3 sort.List)) ∷ []) }); post = (record { opened = []; facts = ((Rel relation.Eq (Var 4 sort.Val) (Of unary.Vi (Number (pos 0)))) ∷ []); locals = []; items = ((Data (Number (pos 64)) (Var 2 sort.Val) (Of3 ternary.Upd (Of3 ternary.Upd (Of3 ternary.Upd (Var 3 sort.List) (Number (pos 0)) (Of unary.Vi (Number (pos 4)))) (Number (pos 0)) (Of unary.Vi (Number (pos 3)))) (Number (pos 0)) (Of unary.Vi (Number (pos 1))))) ∷ []) }) }) ∷ (record { is_void = false; name = name_main; params = ([]); vars = []; pre = (record { opened = []; facts = ([]); locals = []; items = ([]) }); post = (record { opened = []; facts = ((Rel relation.Eq (Var 0 sort.Val) (Of unary.Vi (Number (pos 0)))) ∷ []); locals = []; items = ([]) }) }) ∷ []) }) (record { is_void = false; name = name_f; params = (name_n0 ∷ name_u1 ∷ name_r2 ∷ []); vars = ((name_a0, sort.Int) ∷ (name_b1, sort.Int) ∷ (name_e2, sort.Val) ∷ (name_l2, sort.List) ∷ []); pre = (record { opened = []; facts = ((Rel relation.Le (Number (pos 1)) (Var 0 sort.Int)) ∷ (Rel relation.Le (Var 0 sort.Int) (Number (pos 100))) ∷ (Rel relation.Eq (Of unary.Len (Var 3 sort.List)) (Number (pos 1))) ∷ []); locals = ((name_n0, (Of unary.Vi (Var 0 sort.Int))) ∷ (name_u1, (Of unary.Vi (Var 1 sort.Int))) ∷ (name_r2, (Var 2 sort.Val)) ∷ []); items = ((Data (Number (pos 64)) (Var 2 sort.Val) (Var 3 sort.List)) ∷ []) }); post = (record { opened = []; facts = ((Rel relation.Eq (Var 4 sort.Val) (Of unary.Vi (Number (pos 0)))) ∷ []); locals = []; items = ((Data (Number (pos 64)) (Var 2 sort.Val) (Of3 ternary.Upd (Of3 ternary.Upd (Of3 ternary.Upd (Var 3 sort.List) (Number (pos 0)) (Of unary.Vi (Number (pos 4)))) (Number (pos 0)) (Of unary.Vi (Number (pos 3)))) (Number (pos 0)) (Of unary.Vi (Number (pos 1))))) ∷ []) }) }) (record { temps = (name_n0 ∷ name_u1 ∷ name_r2 ∷ name_s ∷ name_t ∷ name_i ∷ name_x1 ∷ name_d0 ∷ name_p1 ∷ name_q1 ∷ []); body = (c.Then (c.Set 3 (c.Const 3)) (c.Then (c.Set 4 (c.Const 2)) (c.Then (c.Set 3 (c.Const 1)) (c.Then c.Skip (c.Then (c.Store (root.Temp 2) (c.Index kind.Signed (c.Const 0) c.Here) (c.Binary two.Add kind.Signed (c.Temp 4) (c.Const 2))) (c.Then (c.Set 6 (c.Binary two.Rem kind.Unsigned (c.Const 1) (c.Const 3))) (c.Then (c.Store (root.Temp 2) (c.Index kind.Signed (c.Const 0) c.Here) (c.Const 3)) (c.Then (c.Store (root.Temp 2) (c.Index kind.Signed (c.Const 1) c.Here) (c.Const 1)) (c.Then (c.Return (Some (c.Const 0))) c.End))))))))) }) (s.Then 1 (s.Free 0 1 ([])) s.NoBlock (s.Then 2 (s.Set ([]) ([])) s.NoBlock (s.Then 3 (s.Block 2 (record { opened = []; facts = ([]); locals = ((name_n0, (Of unary.Vi (Named name_a0))) ∷ (name_u1, (Of unary.Vi (Named name_b1))) ∷ (name_r2, (Named name_e2)) ∷ (name_s, (Of unary.Vi (Number (pos 1)))) ∷ (name_t, (Of unary.Vi (Number (pos 2)))) ∷ []); items = ((Data (Number (pos 64)) (Named name_e2) (Named name_l2)) ∷ []) }) ([]) ([])) (s.WithBlock (s.Then 4 (s.Set ([]) ([])) s.NoBlock (s.Then 5 s.Skip s.NoBlock (s.Then 6 (s.Fall ([]) ([])) s.NoBlock s.End))) s.NoBlock) (s.Then 7 (s.Store 0 ([]) ((record { lines = ((line.Comb (((pos 1), 3) ∷ ((pos 1), 4) ∷ [])) ∷ []) }) ∷ [])) s.NoBlock (s.Then 8 (s.Law name_len_upd ((Named name_l2) ∷ (Number (pos 0)) ∷ (Of unary.Vi (Number (pos 4))) ∷ []) ([])) s.NoBlock (s.Then 9 (s.Set ([]) ([])) s.NoBlock (s.Then 10 (s.Store 0 ([]) ((record { lines = ((line.Comb (((pos 1), 5) ∷ ((pos 1), 3) ∷ ((pos 1), 6) ∷ [])) ∷ []) }) ∷ [])) s.NoBlock (s.Then 11 (s.Law name_len_upd ((Of3 ternary.Upd (Named name_l2) (Number (pos 0)) (Of unary.Vi (Number (pos 4)))) ∷ (Number (pos 0)) ∷ (Of unary.Vi (Number (pos 3))) ∷ []) ([])) s.NoBlock (s.Then 12 (s.Store 0 ([]) ((record { lines = ((line.Comb (((pos 1), 3) ∷ ((pos 1), 5) ∷ [])) ∷ (line.Comb (((pos 1), 9) ∷ ((pos 1), 7) ∷ [])) ∷ (line.Comb (((pos 1), 10) ∷ ((pos 1), 8) ∷ [])) ∷ []) }) ∷ [])) s.NoBlock (s.Then 13 (s.Law name_len_upd ((Of3 ternary.Upd (Of3 ternary.Upd (Named name_l2) (Number (pos 0)) (Of unary.Vi (Number (pos 4)))) (Number (pos 0)) (Of unary.Vi (Number (pos 3)))) ∷ (Number (pos 0)) ∷ (Of unary.Vi (Number (pos 1))) ∷ []) ([])) s.NoBlock (s.Then 14 (s.Return ([]) ([]) ([])) s.NoBlock s.End))))))))))) ≡ (RefusedAt 1 15 1)
unfolding computing
random_621 = refl

random_622 : body_verdict (record { predicates = ([]); specs = ((record { is_void = false; name = name_f; params = (name_n0 ∷ name_u1 ∷ name_r2 ∷ []); vars = ((name_a0, sort.Int) ∷ (name_b1, sort.Int) ∷ (name_e2, sort.Val) ∷ (name_l2, sort.List) ∷ []); pre = (record { opened = []; facts = ((Rel relation.Le (Number (pos 1)) (Var 0 sort.Int)) ∷ (Rel relation.Le (Var 0 sort.Int) (Number (pos 100))) ∷ (Rel relation.Eq (Of unary.Len (Var 3 sort.List)) (Number (pos 1))) ∷ []); locals = ((name_n0, (Of unary.Vi (Var 0 sort.Int))) ∷ (name_u1, (Of unary.Vi (Var 1 sort.Int))) ∷ (name_r2, (Var 2 sort.Val)) ∷ []); items = ((Data (Number (pos 64)) (Var 2 sort.Val) (Var 3 sort.List)) ∷ []) }); post = (record { opened = []; facts = ((Rel relation.Eq (Var 4 sort.Val) (Of unary.Vi (Number (pos 0)))) ∷ []); locals = []; items = ((Data (Number (pos 64)) (Var 2 sort.Val) (Of3 ternary.Upd (Of3 ternary.Upd (Of3 ternary.Upd (Var 3 sort.List) (Number (pos 0)) (Of unary.Vi (Number (pos 4)))) (Number (pos 0)) (Of unary.Vi (Number (pos 3)))) (Number (pos 0)) (Of unary.Vi (Number (pos 1))))) ∷ []) }) }) ∷ (record { is_void = false; name = name_main; params = ([]); vars = []; pre = (record { opened = []; facts = ([]); locals = []; items = ([]) }); post = (record { opened = []; facts = ((Rel relation.Eq (Var 0 sort.Val) (Of unary.Vi (Number (pos 0)))) ∷ []); locals = []; items = ([]) }) }) ∷ []) }) (record { is_void = false; name = name_main; params = ([]); vars = []; pre = (record { opened = []; facts = ([]); locals = []; items = ([]) }); post = (record { opened = []; facts = ((Rel relation.Eq (Var 0 sort.Val) (Of unary.Vi (Number (pos 0)))) ∷ []); locals = []; items = ([]) }) }) (record { temps = ([]); body = (c.Then (c.Return (Some (c.Const 0))) c.End) }) s.End ≡ (RefusedAt 1 0 10)
unfolding computing
random_622 = refl

random_623 : body_verdict (record { predicates = ([]); specs = ((record { is_void = false; name = name_f; params = (name_n0 ∷ name_u1 ∷ name_r2 ∷ []); vars = ((name_a0, sort.Int) ∷ (name_b1, sort.Int) ∷ (name_e2, sort.Val) ∷ (name_l2, sort.List) ∷ []); pre = (record { opened = []; facts = ((Rel relation.Le (Number (pos 1)) (Var 0 sort.Int)) ∷ (Rel relation.Le (Var 0 sort.Int) (Number (pos 100))) ∷ (Rel relation.Eq (Of unary.Len (Var 3 sort.List)) (Number (pos 1))) ∷ []); locals = ((name_n0, (Of unary.Vi (Var 0 sort.Int))) ∷ (name_u1, (Of unary.Vi (Var 1 sort.Int))) ∷ (name_r2, (Var 2 sort.Val)) ∷ []); items = ((Data (Number (pos 64)) (Var 2 sort.Val) (Var 3 sort.List)) ∷ []) }); post = (record { opened = []; facts = ((Rel relation.Eq (Var 4 sort.Val) (Of unary.Vi (Number (pos 0)))) ∷ []); locals = []; items = ((Data (Number (pos 64)) (Var 2 sort.Val) (Of3 ternary.Upd (Of3 ternary.Upd (Of3 ternary.Upd (Var 3 sort.List) (Number (pos 0)) (Of unary.Vi (Number (pos 4)))) (Number (pos 0)) (Of unary.Vi (Number (pos 3)))) (Number (pos 0)) (Of unary.Vi (Number (pos 1))))) ∷ []) }) }) ∷ (record { is_void = false; name = name_main; params = ([]); vars = []; pre = (record { opened = []; facts = ([]); locals = []; items = ([]) }); post = (record { opened = []; facts = ((Rel relation.Eq (Var 0 sort.Val) (Of unary.Vi (Number (pos 0)))) ∷ []); locals = []; items = ([]) }) }) ∷ []) }) (record { is_void = false; name = name_f; params = (name_n0 ∷ name_u1 ∷ name_r2 ∷ []); vars = ((name_a0, sort.Int) ∷ (name_b1, sort.Int) ∷ (name_e2, sort.Val) ∷ (name_l2, sort.List) ∷ []); pre = (record { opened = []; facts = ((Rel relation.Le (Number (pos 1)) (Var 0 sort.Int)) ∷ (Rel relation.Le (Var 0 sort.Int) (Number (pos 100))) ∷ (Rel relation.Eq (Of unary.Len (Var 3 sort.List)) (Number (pos 1))) ∷ []); locals = ((name_n0, (Of unary.Vi (Var 0 sort.Int))) ∷ (name_u1, (Of unary.Vi (Var 1 sort.Int))) ∷ (name_r2, (Var 2 sort.Val)) ∷ []); items = ((Data (Number (pos 64)) (Var 2 sort.Val) (Var 3 sort.List)) ∷ []) }); post = (record { opened = []; facts = ((Rel relation.Eq (Var 4 sort.Val) (Of unary.Vi (Number (pos 0)))) ∷ []); locals = []; items = ((Data (Number (pos 64)) (Var 2 sort.Val) (Of3 ternary.Upd (Of3 ternary.Upd (Of3 ternary.Upd (Var 3 sort.List) (Number (pos 0)) (Of unary.Vi (Number (pos 4)))) (Number (pos 0)) (Of unary.Vi (Number (pos 3)))) (Number (pos 0)) (Of unary.Vi (Number (pos 1))))) ∷ []) }) }) (record { temps = (name_n0 ∷ name_u1 ∷ name_r2 ∷ name_s ∷ name_t ∷ name_i ∷ name_x1 ∷ name_d0 ∷ name_p1 ∷ name_q1 ∷ []); body = (c.Then (c.Set 3 (c.Const 3)) (c.Then (c.Set 4 (c.Const 2)) (c.Then (c.Set 3 (c.Const 1)) (c.Then c.Skip (c.Then (c.Store (root.Temp 2) (c.Index kind.Signed (c.Const 0) c.Here) (c.Binary two.Add kind.Signed (c.Temp 4) (c.Const 2))) (c.Then (c.Set 6 (c.Binary two.Rem kind.Unsigned (c.Const 1) (c.Const 3))) (c.Then (c.Store (root.Temp 2) (c.Index kind.Signed (c.Const 0) c.Here) (c.Const 3)) (c.Then (c.Store (root.Temp 2) (c.Index kind.Signed (c.Const 0) c.Here) (c.Const 1)) (c.Then (c.Return (Some (c.Const 0))) c.End))))))))) }) (s.Then 1 (s.Set ([]) ([])) s.NoBlock (s.Then 2 (s.Set ([]) ([])) s.NoBlock (s.Then 3 (s.Block 2 (record { opened = []; facts = ([]); locals = ((name_n0, (Of unary.Vi (Named name_a0))) ∷ (name_u1, (Of unary.Vi (Named name_b1))) ∷ (name_r2, (Named name_e2)) ∷ (name_s, (Of unary.Vi (Number (pos 1)))) ∷ (name_t, (Of unary.Vi (Number (pos 2)))) ∷ []); items = ((Data (Number (pos 64)) (Named name_e2) (Named name_l2)) ∷ []) }) ([]) ([])) (s.WithBlock (s.Then 4 (s.Set ([]) ([])) s.NoBlock (s.Then 5 s.Skip s.NoBlock (s.Then 6 (s.Fall ([]) ([])) s.NoBlock s.End))) s.NoBlock) (s.Then 7 (s.Store 0 ([]) ((record { lines = ((line.Comb (((pos 1), 3) ∷ ((pos 1), 4) ∷ [])) ∷ []) }) ∷ [])) s.NoBlock (s.Then 8 (s.Law name_len_upd ((Named name_l2) ∷ (Number (pos 0)) ∷ (Of unary.Vi (Number (pos 4))) ∷ []) ([])) s.NoBlock (s.Then 9 (s.Set ([]) ([])) s.NoBlock (s.Then 10 (s.Store 0 ([]) ((record { lines = ((line.Comb (((pos 1), 5) ∷ ((pos 1), 3) ∷ ((pos 1), 6) ∷ [])) ∷ []) }) ∷ [])) s.NoBlock (s.Then 11 (s.Law name_len_upd ((Of3 ternary.Upd (Named name_l2) (Number (pos 0)) (Of unary.Vi (Number (pos 4)))) ∷ (Number (pos 0)) ∷ (Of unary.Vi (Number (pos 3))) ∷ []) ([])) s.NoBlock (s.Then 12 (s.Store 0 ([]) ((record { lines = ((line.Comb (((pos 1), 3) ∷ ((pos 1), 5) ∷ [])) ∷ (line.Comb (((pos 1), 10) ∷ ((pos 1), 8) ∷ [])) ∷ []) }) ∷ [])) s.NoBlock (s.Then 13 (s.Law name_len_upd ((Of3 ternary.Upd (Of3 ternary.Upd (Named name_l2) (Number (pos 0)) (Of unary.Vi (Number (pos 4)))) (Number (pos 0)) (Of unary.Vi (Number (pos 3)))) ∷ (Number (pos 0)) ∷ (Of unary.Vi (Number (pos 1))) ∷ []) ([])) s.NoBlock (s.Then 14 (s.Return ([]) ([]) ([])) s.NoBlock s.End))))))))))) ≡ (RefusedAt 12 4 3)
unfolding computing
random_623 = refl

random_624 : body_verdict (record { predicates = ([]); specs = ((record { is_void = false; name = name_f; params = (name_n0 ∷ name_u1 ∷ name_r2 ∷ []); vars = ((name_a0, sort.Int) ∷ (name_b1, sort.Int) ∷ (name_e2, sort.Val) ∷ (name_l2, sort.List) ∷ []); pre = (record { opened = []; facts = ((Rel relation.Le (Number (pos 1)) (Var 0 sort.Int)) ∷ (Rel relation.Le (Var 0 sort.Int) (Number (pos 100))) ∷ (Rel relation.Eq (Of unary.Len (Var 3 sort.List)) (Number (pos 1))) ∷ []); locals = ((name_n0, (Of unary.Vi (Var 0 sort.Int))) ∷ (name_u1, (Of unary.Vi (Var 1 sort.Int))) ∷ (name_r2, (Var 2 sort.Val)) ∷ []); items = ((Data (Number (pos 64)) (Var 2 sort.Val) (Var 3 sort.List)) ∷ []) }); post = (record { opened = []; facts = ((Rel relation.Eq (Var 4 sort.Val) (Of unary.Vi (Number (pos 0)))) ∷ []); locals = []; items = ((Data (Number (pos 64)) (Var 2 sort.Val) (Of3 ternary.Upd (Of3 ternary.Upd (Of3 ternary.Upd (Var 3 sort.List) (Number (pos 0)) (Of unary.Vi (Number (pos 4)))) (Number (pos 0)) (Of unary.Vi (Number (pos 3)))) (Number (pos 0)) (Of unary.Vi (Number (pos 1))))) ∷ []) }) }) ∷ (record { is_void = false; name = name_main; params = ([]); vars = []; pre = (record { opened = []; facts = ([]); locals = []; items = ([]) }); post = (record { opened = []; facts = ((Rel relation.Eq (Var 0 sort.Val) (Of unary.Vi (Number (pos 0)))) ∷ []); locals = []; items = ([]) }) }) ∷ []) }) (record { is_void = false; name = name_main; params = ([]); vars = []; pre = (record { opened = []; facts = ([]); locals = []; items = ([]) }); post = (record { opened = []; facts = ((Rel relation.Eq (Var 0 sort.Val) (Of unary.Vi (Number (pos 0)))) ∷ []); locals = []; items = ([]) }) }) (record { temps = ([]); body = (c.Then (c.Return (Some (c.Const 0))) c.End) }) (s.Then 1 (s.Subst name_k1) s.NoBlock s.End) ≡ (RefusedAt 1 27 1)
unfolding computing
random_624 = refl

random_625 : body_verdict (record { predicates = ((record { name = name_iv; args = ([]); cases = ((record { opened = (sort.Int ∷ []); facts = ((Rel relation.Le (Number (pos 0)) (Var 0 sort.Int)) ∷ (Rel relation.Le (Var 0 sort.Int) (Number (pos 50))) ∷ []); locals = []; items = ((Data (Number (pos 64)) (Global name_x) (Of2 binary.Cons (Of unary.Vi (Var 0 sort.Int)) Nil)) ∷ []) }) ∷ []) }) ∷ []); specs = ((record { is_void = false; name = name_main; params = ([]); vars = []; pre = (record { opened = []; facts = ([]); locals = []; items = ((Data (Number (pos 64)) (Global name_x) (Of2 binary.Cons (Of unary.Vi (Number (pos 3))) Nil)) ∷ (Data (Number (pos 64)) (Global name_l) (Of2 binary.Cons (Of unary.Vi (Number (pos 0))) Nil)) ∷ []) }); post = (record { opened = []; facts = ([]); locals = []; items = ((Lock (Number (pos 64)) (Global name_l) (record { name = name_iv; args = ([]) })) ∷ []) }) }) ∷ []) }) (record { is_void = false; name = name_main; params = ([]); vars = []; pre = (record { opened = []; facts = ([]); locals = []; items = ((Data (Number (pos 64)) (Global name_x) (Of2 binary.Cons (Of unary.Vi (Number (pos 3))) Nil)) ∷ (Data (Number (pos 64)) (Global name_l) (Of2 binary.Cons (Of unary.Vi (Number (pos 0))) Nil)) ∷ []) }); post = (record { opened = []; facts = ([]); locals = []; items = ((Lock (Number (pos 64)) (Global name_l) (record { name = name_iv; args = ([]) })) ∷ []) }) }) (record { temps = (name_s ∷ name_t ∷ name_i ∷ name_x1 ∷ name_d0 ∷ name_p1 ∷ name_q1 ∷ []); body = (c.Then (c.Set 0 (c.Const 0)) (c.Then (c.Set 1 (c.Const 2)) (c.Then (c.OnLock lock.Make (c.Address (root.Global name_l 1) c.Here)) (c.Then (c.OnLock lock.Release (c.Address (root.Global name_l 1) c.Here)) (c.Then (c.Set 3 (c.Const 0)) (c.Then (c.Set 2 (c.Const 0)) (c.Then (c.Loop (c.Then (c.If (c.Nonzero kind.Signed (c.Binary two.Lt kind.Signed (c.Temp 2) (c.Const 10))) (c.Then (c.Set 3 (c.Binary two.Add kind.Unsigned (c.Temp 3) (c.Const 2))) (c.Then (c.Set 2 (c.Binary two.Add kind.Signed (c.Temp 2) (c.Const 1))) c.End)) (c.Then c.Break c.End)) c.End)) (c.Then (c.OnLock lock.Acquire (c.Address (root.Global name_l 1) c.Here)) (c.Then (c.Store (root.Global name_x 1) c.Here (c.Const 4)) (c.Then (c.OnLock lock.Release (c.Address (root.Global name_l 1) c.Here)) (c.Then (c.Return (Some (c.Temp 0))) c.End))))))))))) }) (s.Then 1 (s.Set ([]) ([])) s.NoBlock (s.Then 2 (s.Set ([]) ([])) s.NoBlock (s.Then 3 (s.MakeLock 1 (record { name = name_iv; args = ([]) }) ([]) ([])) s.NoBlock (s.Then 4 (s.Fold name_iv 0 ([]) ((Number (pos 3)) ∷ []) ([])) s.NoBlock (s.Then 5 (s.Release 1 2 ([])) s.NoBlock (s.Then 6 (s.Set ([]) ([])) s.NoBlock (s.Then 7 (s.Set ([]) ([])) s.NoBlock (s.Then 8 (s.While (record { opened = (sort.Int ∷ sort.Int ∷ []); facts = ((Rel relation.Le (Number (pos 0)) (Var 0 sort.Int)) ∷ (Rel relation.Le (Var 0 sort.Int) (Number (pos 10))) ∷ []); locals = ((name_s, (Of unary.Vi (Number (pos 0)))) ∷ (name_t, (Of unary.Vi (Number (pos 2)))) ∷ (name_i, (Of unary.Vi (Var 0 sort.Int))) ∷ (name_x1, (Of unary.Vi (Var 1 sort.Int))) ∷ []); items = ((Lock (Number (pos 64)) (Global name_l) (record { name = name_iv; args = ([]) })) ∷ []) }) (record { opened = (sort.Int ∷ sort.Int ∷ []); facts = ((Rel relation.Le (Number (pos 0)) (Var 0 sort.Int)) ∷ (Rel relation.Le (Var 0 sort.Int) (Number (pos 10))) ∷ (Rel relation.Le (Number (pos 10)) (Var 0 sort.Int)) ∷ []); locals = ((name_s, (Of unary.Vi (Number (pos 0)))) ∷ (name_t, (Of unary.Vi (Number (pos 2)))) ∷ (name_i, (Of unary.Vi (Var 0 sort.Int))) ∷ (name_x1, (Of unary.Vi (Var 1 sort.Int))) ∷ []); items = ((Lock (Number (pos 64)) (Global name_l) (record { name = name_iv; args = ([]) })) ∷ []) }) (name_k3 ∷ name_k4 ∷ []) ([]) (name_k1 ∷ name_k2 ∷ [])) (s.WithBlock (s.Then 9 (s.Meet ((Number (pos 0)) ∷ (Number (pos 0)) ∷ []) ([])) s.NoBlock s.End) (s.WithBlock (s.Then 10 (s.If ([]) ((record { lines = ((line.Comb (((pos 1), 0) ∷ ((pos 1), 2) ∷ [])) ∷ []) }) ∷ (record { lines = ((line.Comb (((pos 1), 1) ∷ ((pos 1), 2) ∷ [])) ∷ []) }) ∷ []) ([]) ([])) (s.WithBlock (s.Then 11 (s.Set ([]) ([])) s.NoBlock (s.Then 12 (s.Set ([]) ((record { lines = ((line.Comb (((pos 1), 0) ∷ ((pos 1), 3) ∷ [])) ∷ []) }) ∷ (record { lines = ((line.Comb (((pos 1), 1) ∷ ((pos 1), 3) ∷ [])) ∷ []) }) ∷ (record { lines = ((line.Comb (((pos 1), 0) ∷ ((pos 1), 3) ∷ [])) ∷ []) }) ∷ (record { lines = ((line.Comb (((pos 1), 1) ∷ ((pos 1), 3) ∷ [])) ∷ []) }) ∷ [])) s.NoBlock (s.Then 13 (s.Fall ((Of2 binary.Add (Named name_k1) (Number (pos 1))) ∷ (Of2 binary.Add (Named name_k2) (Number (pos 2))) ∷ []) ((record { lines = ((line.Comb (((pos 1), 0) ∷ ((pos 1), 3) ∷ [])) ∷ []) }) ∷ [])) s.NoBlock s.End))) (s.WithBlock (s.Then 14 (s.Break ((Named name_k1) ∷ (Named name_k2) ∷ []) ([])) s.NoBlock s.End) s.NoBlock)) s.End) s.NoBlock)) (s.Then 15 (s.Acquire 0 ([])) s.NoBlock (s.Then 16 (s.Unfold 2 ((name_k5 ∷ []) ∷ [])) (s.WithBlock (s.Then 17 (s.Store 2 ([]) ([])) s.NoBlock (s.Then 18 (s.Fold name_iv 0 ([]) ((Number (pos 4)) ∷ []) ([])) s.NoBlock (s.Then 19 (s.Release 1 2 ([])) s.NoBlock (s.Then 20 (s.Return ([]) ([]) ([])) s.NoBlock s.End)))) s.NoBlock) s.End)))))))))) ≡ Accepted
unfolding computing
random_625 = refl

random_626 : body_verdict (record { predicates = ((record { name = name_iv; args = ([]); cases = ((record { opened = (sort.Int ∷ []); facts = ((Rel relation.Le (Number (pos 0)) (Var 0 sort.Int)) ∷ (Rel relation.Le (Var 0 sort.Int) (Number (pos 50))) ∷ []); locals = []; items = ((Data (Number (pos 64)) (Global name_x) (Of2 binary.Cons (Of unary.Vi (Var 0 sort.Int)) Nil)) ∷ []) }) ∷ []) }) ∷ []); specs = ((record { is_void = false; name = name_main; params = ([]); vars = []; pre = (record { opened = []; facts = ([]); locals = []; items = ((Data (Number (pos 64)) (Global name_x) (Of2 binary.Cons (Of unary.Vi (Number (pos 3))) Nil)) ∷ (Data (Number (pos 64)) (Global name_l) (Of2 binary.Cons (Of unary.Vi (Number (pos 0))) Nil)) ∷ []) }); post = (record { opened = []; facts = ([]); locals = []; items = ((Lock (Number (pos 64)) (Global name_l) (record { name = name_iv; args = ([]) })) ∷ []) }) }) ∷ []) }) (record { is_void = false; name = name_main; params = ([]); vars = []; pre = (record { opened = []; facts = ([]); locals = []; items = ((Data (Number (pos 64)) (Global name_x) (Of2 binary.Cons (Of unary.Vi (Number (pos 3))) Nil)) ∷ (Data (Number (pos 64)) (Global name_l) (Of2 binary.Cons (Of unary.Vi (Number (pos 0))) Nil)) ∷ []) }); post = (record { opened = []; facts = ([]); locals = []; items = ((Lock (Number (pos 64)) (Global name_l) (record { name = name_iv; args = ([]) })) ∷ []) }) }) (record { temps = (name_s ∷ name_t ∷ name_i ∷ name_x1 ∷ name_d0 ∷ name_p1 ∷ name_q1 ∷ []); body = (c.Then (c.Set 0 (c.Const 0)) (c.Then (c.Set 1 (c.Const 2)) (c.Then (c.OnLock lock.Make (c.Address (root.Global name_l 1) c.Here)) (c.Then (c.OnLock lock.Release (c.Address (root.Global name_l 1) c.Here)) (c.Then (c.Set 3 (c.Const 0)) (c.Then (c.Set 2 (c.Const 0)) (c.Then (c.Loop (c.Then (c.If (c.Nonzero kind.Signed (c.Binary two.Lt kind.Signed (c.Temp 2) (c.Const 10))) (c.Then (c.Set 3 (c.Binary two.Add kind.Unsigned (c.Temp 3) (c.Const 2))) (c.Then (c.Set 2 (c.Binary two.Add kind.Signed (c.Temp 2) (c.Const 1))) c.End)) (c.Then c.Break c.End)) c.End)) (c.Then (c.OnLock lock.Acquire (c.Address (root.Global name_l 1) c.Here)) (c.Then (c.Store (root.Global name_x 1) c.Here (c.Const 4)) (c.Then (c.OnLock lock.Release (c.Address (root.Global name_l 1) c.Here)) (c.Then (c.Return (Some (c.Temp 0))) c.End))))))))))) }) (s.Then 1 (s.Set ([]) ([])) s.NoBlock (s.Then 2 (s.Set ([]) ([])) s.NoBlock (s.Then 3 (s.MakeLock 1 (record { name = name_iv; args = ([]) }) ([]) ([])) s.NoBlock (s.Then 4 (s.Fold name_iv 0 ([]) ((Number (pos 3)) ∷ []) ([])) s.NoBlock (s.Then 5 (s.Release 1 2 ([])) s.NoBlock (s.Then 6 (s.Set ([]) ([])) s.NoBlock (s.Then 7 (s.Set ([]) ([])) s.NoBlock (s.Then 8 (s.While (record { opened = (sort.Int ∷ sort.Int ∷ []); facts = ((Rel relation.Le (Number (pos 0)) (Var 0 sort.Int)) ∷ (Rel relation.Le (Var 0 sort.Int) (Number (pos 10))) ∷ []); locals = ((name_s, (Of unary.Vi (Number (pos 0)))) ∷ (name_t, (Of unary.Vi (Number (pos 2)))) ∷ (name_i, (Of unary.Vi (Var 0 sort.Int))) ∷ (name_x1, (Of unary.Vi (Var 1 sort.Int))) ∷ []); items = ((Lock (Number (pos 64)) (Global name_l) (record { name = name_iv; args = ([]) })) ∷ []) }) (record { opened = (sort.Int ∷ sort.Int ∷ []); facts = ((Rel relation.Le (Number (pos 0)) (Var 0 sort.Int)) ∷ (Rel relation.Le (Var 0 sort.Int) (Number (pos 10))) ∷ (Rel relation.Le (Number (pos 10)) (Var 0 sort.Int)) ∷ []); locals = ((name_s, (Of unary.Vi (Number (pos 0)))) ∷ (name_iv, (Of unary.Vi (Number (pos 2)))) ∷ (name_i, (Of unary.Vi (Var 0 sort.Int))) ∷ (name_x1, (Of unary.Vi (Var 1 sort.Int))) ∷ []); items = ((Lock (Number (pos 64)) (Global name_l) (record { name = name_iv; args = ([]) })) ∷ []) }) (name_k3 ∷ name_k4 ∷ []) ([]) (name_k1 ∷ name_k2 ∷ [])) (s.WithBlock (s.Then 9 (s.Meet ((Number (pos 0)) ∷ (Number (pos 0)) ∷ []) ([])) s.NoBlock s.End) (s.WithBlock (s.Then 10 (s.If ([]) ((record { lines = ((line.Comb (((pos 1), 0) ∷ ((pos 1), 2) ∷ [])) ∷ []) }) ∷ (record { lines = ((line.Comb (((pos 1), 1) ∷ ((pos 1), 2) ∷ [])) ∷ []) }) ∷ []) ([]) ([])) (s.WithBlock (s.Then 11 (s.Set ([]) ([])) s.NoBlock (s.Then 12 (s.Set ([]) ((record { lines = ((line.Comb (((pos 1), 0) ∷ ((pos 1), 3) ∷ [])) ∷ []) }) ∷ (record { lines = ((line.Comb (((pos 1), 1) ∷ ((pos 1), 3) ∷ [])) ∷ []) }) ∷ (record { lines = ((line.Comb (((pos 1), 0) ∷ ((pos 1), 3) ∷ [])) ∷ []) }) ∷ (record { lines = ((line.Comb (((pos 1), 1) ∷ ((pos 1), 3) ∷ [])) ∷ []) }) ∷ [])) s.NoBlock (s.Then 13 (s.Fall ((Of2 binary.Add (Named name_k1) (Number (pos 1))) ∷ (Of2 binary.Add (Named name_k2) (Number (pos 2))) ∷ []) ((record { lines = ((line.Comb (((pos 1), 0) ∷ ((pos 1), 3) ∷ [])) ∷ []) }) ∷ [])) s.NoBlock s.End))) (s.WithBlock (s.Then 14 (s.Break ((Named name_k1) ∷ (Named name_k2) ∷ []) ([])) s.NoBlock s.End) s.NoBlock)) s.End) s.NoBlock)) (s.Then 15 (s.Acquire 0 ([])) s.NoBlock (s.Then 16 (s.Unfold 2 ((name_k5 ∷ []) ∷ [])) (s.WithBlock (s.Then 17 (s.Store 2 ([]) ([])) s.NoBlock (s.Then 18 (s.Fold name_iv 0 ([]) ((Number (pos 4)) ∷ []) ([])) s.NoBlock (s.Then 19 (s.Release 1 2 ([])) s.NoBlock (s.Then 20 (s.Return ([]) ([]) ([])) s.NoBlock s.End)))) s.NoBlock) s.End)))))))))) ≡ (RefusedAt 8 6 4)
unfolding computing
random_626 = refl

random_627 : body_verdict (record { predicates = ((record { name = name_iv; args = ([]); cases = ((record { opened = (sort.Int ∷ []); facts = ((Rel relation.Le (Number (pos 0)) (Var 0 sort.Int)) ∷ (Rel relation.Le (Var 0 sort.Int) (Number (pos 50))) ∷ []); locals = []; items = ((Data (Number (pos 64)) (Global name_x) (Of2 binary.Cons (Of unary.Vi (Var 0 sort.Int)) Nil)) ∷ []) }) ∷ []) }) ∷ []); specs = ((record { is_void = false; name = name_main; params = ([]); vars = []; pre = (record { opened = []; facts = ([]); locals = []; items = ((Data (Number (pos 64)) (Global name_x) (Of2 binary.Cons (Of unary.Vi (Number (pos 3))) Nil)) ∷ (Data (Number (pos 64)) (Global name_l) (Of2 binary.Cons (Of unary.Vi (Number (pos 0))) Nil)) ∷ []) }); post = (record { opened = []; facts = ([]); locals = []; items = ((Lock (Number (pos 64)) (Global name_l) (record { name = name_iv; args = ([]) })) ∷ []) }) }) ∷ []) }) (record { is_void = false; name = name_main; params = ([]); vars = []; pre = (record { opened = []; facts = ([]); locals = []; items = ((Data (Number (pos 64)) (Global name_x) (Of2 binary.Cons (Of unary.Vi (Number (pos 3))) Nil)) ∷ (Data (Number (pos 64)) (Global name_l) (Of2 binary.Cons (Of unary.Vi (Number (pos 0))) Nil)) ∷ []) }); post = (record { opened = []; facts = ([]); locals = []; items = ((Lock (Number (pos 64)) (Global name_l) (record { name = name_iv; args = ([]) })) ∷ []) }) }) (record { temps = (name_s ∷ name_t ∷ name_i ∷ name_x1 ∷ name_d0 ∷ name_p1 ∷ name_q1 ∷ []); body = (c.Then (c.Set 0 (c.Const 0)) (c.Then (c.Set 1 (c.Const 2)) (c.Then (c.OnLock lock.Make (c.Address (root.Global name_l 1) c.Here)) (c.Then (c.OnLock lock.Release (c.Address (root.Global name_l 1) c.Here)) (c.Then (c.Set 3 (c.Const 0)) (c.Then (c.Set 2 (c.Const 0)) (c.Then (c.Loop (c.Then (c.If (c.Nonzero kind.Signed (c.Binary two.Lt kind.Signed (c.Temp 2) (c.Const 10))) (c.Then (c.Set 3 (c.Binary two.Add kind.Unsigned (c.Temp 3) (c.Const 2))) (c.Then (c.Set 2 (c.Binary two.Add kind.Signed (c.Temp 2) (c.Const 1))) c.End)) (c.Then c.Break c.End)) c.End)) (c.Then (c.OnLock lock.Acquire (c.Address (root.Global name_l 1) c.Here)) (c.Then (c.Store (root.Global name_x 1) c.Here (c.Const 4)) (c.Then (c.OnLock lock.Release (c.Address (root.Global name_l 1) c.Here)) (c.Then (c.Return (Some (c.Temp 0))) c.End))))))))))) }) (s.Then 1 (s.Set ([]) ([])) s.NoBlock (s.Then 2 (s.Set ([]) ([])) s.NoBlock (s.Then 3 (s.MakeLock 1 (record { name = name_iv; args = ([]) }) ([]) ([])) s.NoBlock (s.Then 4 (s.Fold name_iv 0 ([]) ((Number (pos 3)) ∷ []) ([])) s.NoBlock (s.Then 5 (s.Release 1 2 ([])) s.NoBlock (s.Then 6 (s.Set ([]) ([])) s.NoBlock (s.Then 7 (s.Set ([]) ([])) s.NoBlock (s.Then 8 (s.While (record { opened = (sort.Int ∷ sort.Int ∷ []); facts = ((Rel relation.Le (Number (pos 0)) (Var 0 sort.Int)) ∷ (Rel relation.Le (Var 0 sort.Int) (Number (pos 10))) ∷ []); locals = ((name_s, (Of unary.Vi (Number (pos 0)))) ∷ (name_t, (Of unary.Vi (Number (pos 2)))) ∷ (name_i, (Of unary.Vi (Var 0 sort.Int))) ∷ (name_x1, (Of unary.Vi (Var 1 sort.Int))) ∷ []); items = ((Lock (Number (pos 64)) (Global name_l) (record { name = name_iv; args = ([]) })) ∷ []) }) (record { opened = (sort.Int ∷ sort.Int ∷ []); facts = ((Rel relation.Le (Number (pos 0)) (Var 0 sort.Int)) ∷ (Rel relation.Le (Var 0 sort.Int) (Number (pos 10))) ∷ (Rel relation.Le (Number (pos 10)) (Var 0 sort.Int)) ∷ []); locals = ((name_s, (Of unary.Vi (Number (pos 0)))) ∷ (name_t, (Of unary.Vi (Number (pos 2)))) ∷ (name_i, (Of unary.Vi (Var 0 sort.Int))) ∷ (name_x1, (Of unary.Vi (Var 1 sort.Int))) ∷ []); items = ((Lock (Number (pos 64)) (Global name_l) (record { name = name_iv; args = ([]) })) ∷ []) }) (name_k3 ∷ name_k4 ∷ []) ([]) (name_k1 ∷ name_k2 ∷ [])) (s.WithBlock (s.Then 9 (s.Meet ((Number (pos 0)) ∷ (Number (pos 0)) ∷ []) ([])) s.NoBlock s.End) (s.WithBlock (s.Then 10 (s.If ([]) ((record { lines = ((line.Comb (((pos 1), 0) ∷ ((pos 1), 2) ∷ [])) ∷ []) }) ∷ (record { lines = ((line.Comb (((pos 1), 1) ∷ ((pos 1), 2) ∷ [])) ∷ []) }) ∷ []) ([]) ([])) (s.WithBlock (s.Then 11 (s.Set ([]) ([])) s.NoBlock (s.Then 12 (s.Fall ((Of2 binary.Add (Named name_k1) (Number (pos 1))) ∷ (Of2 binary.Add (Named name_k2) (Number (pos 2))) ∷ []) ((record { lines = ((line.Comb (((pos 1), 0) ∷ ((pos 1), 3) ∷ [])) ∷ []) }) ∷ [])) s.NoBlock s.End)) (s.WithBlock (s.Then 13 (s.Break ((Named name_k1) ∷ (Named name_k2) ∷ []) ([])) s.NoBlock s.End) s.NoBlock)) s.End) s.NoBlock)) (s.Then 14 (s.Acquire 0 ([])) s.NoBlock (s.Then 15 (s.Unfold 2 ((name_k5 ∷ []) ∷ [])) (s.WithBlock (s.Then 16 (s.Store 2 ([]) ([])) s.NoBlock (s.Then 17 (s.Fold name_iv 0 ([]) ((Number (pos 4)) ∷ []) ([])) s.NoBlock (s.Then 18 (s.Release 1 2 ([])) s.NoBlock (s.Then 19 (s.Return ([]) ([]) ([])) s.NoBlock s.End)))) s.NoBlock) s.End)))))))))) ≡ (RefusedAt 12 10 1)
unfolding computing
random_627 = refl

random_628 : body_verdict (record { predicates = ((record { name = name_iv; args = ([]); cases = ((record { opened = (sort.Int ∷ []); facts = ((Rel relation.Le (Number (pos 0)) (Var 0 sort.Int)) ∷ (Rel relation.Le (Var 0 sort.Int) (Number (pos 50))) ∷ []); locals = []; items = ((Data (Number (pos 64)) (Global name_x) (Of2 binary.Cons (Of unary.Vi (Var 0 sort.Int)) Nil)) ∷ []) }) ∷ []) }) ∷ []); specs = ((record { is_void = false; name = name_main; params = ([]); vars = []; pre = (record { opened = []; facts = ([]); locals = []; items = ((Data (Number (pos 64)) (Global name_x) (Of2 binary.Cons (Of unary.Vi (Number (pos 3))) Nil)) ∷ (Data (Number (pos 64)) (Global name_l) (Of2 binary.Cons (Of unary.Vi (Number (pos 0))) Nil)) ∷ []) }); post = (record { opened = []; facts = ([]); locals = []; items = ((Lock (Number (pos 64)) (Global name_l) (record { name = name_iv; args = ([]) })) ∷ []) }) }) ∷ []) }) (record { is_void = false; name = name_main; params = ([]); vars = []; pre = (record { opened = []; facts = ([]); locals = []; items = ((Data (Number (pos 64)) (Global name_x) (Of2 binary.Cons (Of unary.Vi (Number (pos 3))) Nil)) ∷ (Data (Number (pos 64)) (Global name_l) (Of2 binary.Cons (Of unary.Vi (Number (pos 0))) Nil)) ∷ []) }); post = (record { opened = []; facts = ([]); locals = []; items = ((Lock (Number (pos 64)) (Global name_l) (record { name = name_iv; args = ([]) })) ∷ []) }) }) (record { temps = (name_s ∷ name_t ∷ name_i ∷ name_x1 ∷ name_d0 ∷ name_p1 ∷ name_q1 ∷ []); body = (c.Then (c.Set 0 (c.Const 0)) (c.Then (c.Set 1 (c.Const 2)) (c.Then (c.OnLock lock.Make (c.Address (root.Global name_l 1) c.Here)) (c.Then (c.OnLock lock.Release (c.Address (root.Global name_l 1) c.Here)) (c.Then (c.Set 3 (c.Const 0)) (c.Then (c.Set 2 (c.Const 0)) (c.Then (c.Loop (c.Then (c.If (c.Nonzero kind.Signed (c.Binary two.Lt kind.Signed (c.Temp 2) (c.Const 10))) (c.Then (c.Set 3 (c.Binary two.Add kind.Unsigned (c.Temp 3) (c.Const 2))) (c.Then (c.Set 2 (c.Binary two.Add kind.Signed (c.Temp 2) (c.Const 1))) c.End)) (c.Then c.Break c.End)) c.End)) (c.Then (c.OnLock lock.Acquire (c.Address (root.Global name_l 1) c.Here)) (c.Then (c.Store (root.Global name_x 1) c.Here (c.Const 4)) (c.Then (c.OnLock lock.Release (c.Address (root.Global name_l 1) c.Here)) (c.Then (c.Return (Some (c.Temp 0))) c.End))))))))))) }) (s.Then 1 (s.Set ([]) ([])) s.NoBlock (s.Then 2 (s.Set ([]) ([])) s.NoBlock (s.Then 3 (s.MakeLock 1 (record { name = name_iv; args = ([]) }) ([]) ([])) s.NoBlock (s.Then 4 (s.Fold name_iv 0 ([]) ((Number (pos 3)) ∷ []) ([])) s.NoBlock (s.Then 5 (s.Release 1 2 ([])) s.NoBlock (s.Then 6 (s.Set ([]) ([])) s.NoBlock (s.Then 7 (s.Set ([]) ([])) s.NoBlock (s.Then 8 (s.While (record { opened = (sort.Int ∷ sort.Int ∷ []); facts = ((Rel relation.Le (Number (pos 0)) (Var 0 sort.Int)) ∷ (Rel relation.Le (Var 0 sort.Int) (Number (pos 10))) ∷ []); locals = ((name_s, (Of unary.Vi (Number (pos 0)))) ∷ (name_t, (Of unary.Vi (Number (pos 2)))) ∷ (name_i, (Of unary.Vi (Var 0 sort.Int))) ∷ (name_x1, (Of unary.Vi (Var 1 sort.Int))) ∷ []); items = ((Lock (Number (pos 64)) (Global name_l) (record { name = name_iv; args = ([]) })) ∷ []) }) (record { opened = (sort.Int ∷ sort.Int ∷ []); facts = ((Rel relation.Le (Number (pos 0)) (Var 0 sort.Int)) ∷ (Rel relation.Le (Var 0 sort.Int) (Number (pos 10))) ∷ (Rel relation.Le (Number (pos 10)) (Var 0 sort.Int)) ∷ []); locals = ((name_s, (Of unary.Vi (Number (pos 0)))) ∷ (name_t, (Of unary.Vi (Number (pos 2)))) ∷ (name_i, (Of unary.Vi (Var 0 sort.Int))) ∷ (name_x1, (Of unary.Vi (Var 1 sort.Int))) ∷ []); items = ((Lock (Number (pos 64)) (Global name_l) (record { name = name_iv; args = ([]) })) ∷ []) }) (name_k3 ∷ name_k4 ∷ []) ([]) (name_k1 ∷ name_k2 ∷ [])) (s.WithBlock (s.Then 9 (s.Meet ((Number (pos 0)) ∷ (Number (pos 0)) ∷ []) ([])) s.NoBlock s.End) (s.WithBlock (s.Then 10 (s.If ([]) ((record { lines = ((line.Comb (((pos 1), 0) ∷ ((pos 1), 2) ∷ [])) ∷ []) }) ∷ (record { lines = ((line.Comb (((pos 1), 1) ∷ ((pos 1), 2) ∷ [])) ∷ []) }) ∷ []) ([]) ([])) (s.WithBlock (s.Then 11 (s.Set ([]) ([])) s.NoBlock (s.Then 12 (s.Set ([]) ((record { lines = ((line.Comb (((pos 1), 0) ∷ ((pos 1), 3) ∷ [])) ∷ []) }) ∷ (record { lines = ((line.Comb (((pos 1), 1) ∷ ((pos 1), 3) ∷ [])) ∷ []) }) ∷ (record { lines = ((line.Comb (((pos 1), 0) ∷ ((pos 1), 3) ∷ [])) ∷ []) }) ∷ (record { lines = ((line.Comb (((pos 1), 1) ∷ ((pos 1), 3) ∷ [])) ∷ []) }) ∷ (record { lines = ((line.Comb (((pos 1), 1) ∷ ((pos 1), 3) ∷ [])) ∷ []) }) ∷ [])) s.NoBlock (s.Then 13 (s.Fall ((Of2 binary.Add (Named name_k1) (Number (pos 1))) ∷ (Of2 binary.Add (Named name_k2) (Number (pos 2))) ∷ []) ((record { lines = ((line.Comb (((pos 1), 0) ∷ ((pos 1), 3) ∷ [])) ∷ []) }) ∷ [])) s.NoBlock s.End))) (s.WithBlock (s.Then 14 (s.Break ((Named name_k1) ∷ (Named name_k2) ∷ []) ([])) s.NoBlock s.End) s.NoBlock)) s.End) s.NoBlock)) (s.Then 15 (s.Acquire 0 ([])) s.NoBlock (s.Then 16 (s.Unfold 2 ((name_k5 ∷ []) ∷ [])) (s.WithBlock (s.Then 17 (s.Store 2 ([]) ([])) s.NoBlock (s.Then 18 (s.Fold name_iv 0 ([]) ((Number (pos 4)) ∷ []) ([])) s.NoBlock (s.Then 19 (s.Release 1 2 ([])) s.NoBlock s.End))) s.NoBlock) s.End)))))))))) ≡ (RefusedAt 12 2 3)
unfolding computing
random_628 = refl

random_629 : body_verdict (record { predicates = ((record { name = name_iv; args = ([]); cases = ((record { opened = (sort.Int ∷ []); facts = ((Rel relation.Le (Number (pos 0)) (Var 0 sort.Int)) ∷ (Rel relation.Le (Var 0 sort.Int) (Number (pos 50))) ∷ []); locals = []; items = ((Data (Number (pos 64)) (Global name_x) (Of2 binary.Cons (Of unary.Vi (Var 0 sort.Int)) Nil)) ∷ []) }) ∷ []) }) ∷ []); specs = ((record { is_void = false; name = name_main; params = ([]); vars = []; pre = (record { opened = []; facts = ([]); locals = []; items = ((Data (Number (pos 64)) (Global name_x) (Of2 binary.Cons (Of unary.Vi (Number (pos 3))) Nil)) ∷ (Data (Number (pos 64)) (Global name_l) (Of2 binary.Cons (Of unary.Vi (Number (pos 0))) Nil)) ∷ []) }); post = (record { opened = []; facts = ([]); locals = []; items = ((Lock (Number (pos 64)) (Global name_l) (record { name = name_iv; args = ([]) })) ∷ []) }) }) ∷ []) }) (record { is_void = false; name = name_main; params = ([]); vars = []; pre = (record { opened = []; facts = ([]); locals = []; items = ((Data (Number (pos 64)) (Global name_x) (Of2 binary.Cons (Of unary.Vi (Number (pos 3))) Nil)) ∷ (Data (Number (pos 64)) (Global name_l) (Of2 binary.Cons (Of unary.Vi (Number (pos 0))) Nil)) ∷ []) }); post = (record { opened = []; facts = ([]); locals = []; items = ((Lock (Number (pos 64)) (Global name_l) (record { name = name_iv; args = ([]) })) ∷ []) }) }) (record { temps = (name_s ∷ name_t ∷ name_i ∷ name_x1 ∷ name_d0 ∷ name_p1 ∷ name_q1 ∷ []); body = (c.Then (c.Set 0 (c.Const 0)) (c.Then (c.Set 1 (c.Const 2)) (c.Then (c.OnLock lock.Make (c.Address (root.Global name_l 1) c.Here)) (c.Then (c.OnLock lock.Release (c.Address (root.Global name_l 1) c.Here)) (c.Then (c.Set 3 (c.Const 0)) (c.Then (c.Set 2 (c.Const 0)) (c.Then (c.Loop (c.Then (c.If (c.Nonzero kind.Signed (c.Binary two.Lt kind.Signed (c.Temp 2) (c.Const 10))) (c.Then (c.Set 3 (c.Binary two.Add kind.Unsigned (c.Temp 3) (c.Const 2))) (c.Then (c.Set 2 (c.Binary two.Add kind.Signed (c.Temp 2) (c.Const 1))) c.End)) (c.Then c.Break c.End)) c.End)) (c.Then (c.OnLock lock.Acquire (c.Address (root.Global name_l 1) c.Here)) (c.Then (c.Store (root.Global name_x 1) c.Here (c.Const 4)) (c.Then (c.Return (Some (c.Temp 0))) c.End)))))))))) }) (s.Then 1 (s.Set ([]) ([])) s.NoBlock (s.Then 2 (s.Set ([]) ([])) s.NoBlock (s.Then 3 (s.MakeLock 1 (record { name = name_iv; args = ([]) }) ([]) ([])) s.NoBlock (s.Then 4 (s.Fold name_iv 0 ([]) ((Number (pos 3)) ∷ []) ([])) s.NoBlock (s.Then 5 (s.Release 1 2 ([])) s.NoBlock (s.Then 6 (s.Set ([]) ([])) s.NoBlock (s.Then 7 (s.Set ([]) ([])) s.NoBlock (s.Then 8 (s.While (record { opened = (sort.Int ∷ sort.Int ∷ []); facts = ((Rel relation.Le (Number (pos 0)) (Var 0 sort.Int)) ∷ (Rel relation.Le (Var 0 sort.Int) (Number (pos 10))) ∷ []); locals = ((name_s, (Of unary.Vi (Number (pos 0)))) ∷ (name_t, (Of unary.Vi (Number (pos 2)))) ∷ (name_i, (Of unary.Vi (Var 0 sort.Int))) ∷ (name_x1, (Of unary.Vi (Var 1 sort.Int))) ∷ []); items = ((Lock (Number (pos 64)) (Global name_l) (record { name = name_iv; args = ([]) })) ∷ []) }) (record { opened = (sort.Int ∷ sort.Int ∷ []); facts = ((Rel relation.Le (Number (pos 0)) (Var 0 sort.Int)) ∷ (Rel relation.Le (Var 0 sort.Int) (Number (pos 10))) ∷ (Rel relation.Le (Number (pos 10)) (Var 0 sort.Int)) ∷ []); locals = ((name_s, (Of unary.Vi (Number (pos 0)))) ∷ (name_t, (Of unary.Vi (Number (pos 2)))) ∷ (name_i, (Of unary.Vi (Var 0 sort.Int))) ∷ (name_x1, (Of unary.Vi (Var 1 sort.Int))) ∷ []); items = ((Lock (Number (pos 64)) (Global name_l) (record { name = name_iv; args = ([]) })) ∷ []) }) (name_k3 ∷ name_k4 ∷ []) ([]) (name_k1 ∷ name_k2 ∷ [])) (s.WithBlock (s.Then 9 (s.Meet ((Number (pos 0)) ∷ (Number (pos 0)) ∷ []) ([])) s.NoBlock s.End) (s.WithBlock (s.Then 10 (s.If ([]) ((record { lines = ((line.Comb (((pos 1), 0) ∷ ((pos 1), 2) ∷ [])) ∷ []) }) ∷ (record { lines = ((line.Comb (((pos 1), 1) ∷ ((pos 1), 2) ∷ [])) ∷ []) }) ∷ []) ([]) ([])) (s.WithBlock (s.Then 11 (s.Set ([]) ([])) s.NoBlock (s.Then 12 (s.Set ([]) ((record { lines = ((line.Comb (((pos 1), 0) ∷ ((pos 1), 3) ∷ [])) ∷ []) }) ∷ (record { lines = ((line.Comb (((pos 1), 1) ∷ ((pos 1), 3) ∷ [])) ∷ []) }) ∷ (record { lines = ((line.Comb (((pos 1), 0) ∷ ((pos 1), 3) ∷ [])) ∷ []) }) ∷ (record { lines = ((line.Comb (((pos 1), 1) ∷ ((pos 1), 3) ∷ [])) ∷ []) }) ∷ [])) s.NoBlock (s.Then 13 (s.Fall ((Of2 binary.Add (Named name_k1) (Number (pos 1))) ∷ (Of2 binary.Add (Named name_k2) (Number (pos 2))) ∷ []) ((record { lines = ((line.Comb (((pos 1), 0) ∷ ((pos 1), 3) ∷ [])) ∷ []) }) ∷ [])) s.NoBlock s.End))) (s.WithBlock (s.Then 14 (s.Break ((Named name_k1) ∷ (Named name_k2) ∷ []) ([])) s.NoBlock s.End) s.NoBlock)) s.End) s.NoBlock)) (s.Then 15 (s.Acquire 0 ([])) s.NoBlock (s.Then 16 (s.Unfold 2 ((name_k5 ∷ []) ∷ [])) (s.WithBlock (s.Then 17 (s.Store 2 ([]) ([])) s.NoBlock (s.Then 18 (s.Fold name_iv 0 ([]) ((Number (pos 4)) ∷ []) ([])) s.NoBlock (s.Then 19 (s.Release 1 2 ([])) s.NoBlock (s.Then 20 (s.Return ([]) ([]) ([])) s.NoBlock s.End)))) s.NoBlock) s.End)))))))))) ≡ (RefusedAt 19 18 1)
unfolding computing
random_629 = refl

random_630 : body_verdict (record { predicates = ((record { name = name_iv; args = ([]); cases = ((record { opened = (sort.Int ∷ []); facts = ((Rel relation.Le (Number (pos 0)) (Var 0 sort.Int)) ∷ (Rel relation.Le (Var 0 sort.Int) (Number (pos 50))) ∷ []); locals = []; items = ((Data (Number (pos 64)) (Global name_x) (Of2 binary.Cons (Of unary.Vi (Var 0 sort.Int)) Nil)) ∷ []) }) ∷ []) }) ∷ []); specs = ((record { is_void = false; name = name_main; params = ([]); vars = []; pre = (record { opened = []; facts = ([]); locals = []; items = ((Data (Number (pos 64)) (Global name_x) (Of2 binary.Cons (Of unary.Vi (Number (pos 3))) Nil)) ∷ (Data (Number (pos 64)) (Global name_l) (Of2 binary.Cons (Of unary.Vi (Number (pos 0))) Nil)) ∷ []) }); post = (record { opened = []; facts = ([]); locals = []; items = ((Lock (Number (pos 64)) (Global name_l) (record { name = name_iv; args = ([]) })) ∷ []) }) }) ∷ []) }) (record { is_void = false; name = name_main; params = ([]); vars = []; pre = (record { opened = []; facts = ([]); locals = []; items = ((Data (Number (pos 64)) (Global name_x) (Of2 binary.Cons (Of unary.Vi (Number (pos 3))) Nil)) ∷ (Data (Number (pos 64)) (Global name_l) (Of2 binary.Cons (Of unary.Vi (Number (pos 0))) Nil)) ∷ []) }); post = (record { opened = []; facts = ([]); locals = []; items = ((Lock (Number (pos 64)) (Global name_l) (record { name = name_iv; args = ([]) })) ∷ []) }) }) (record { temps = (name_s ∷ name_t ∷ name_i ∷ name_x1 ∷ name_d0 ∷ name_p1 ∷ name_q1 ∷ []); body = (c.Then (c.Set 0 (c.Const 0)) (c.Then (c.Set 1 (c.Const 2)) (c.Then (c.OnLock lock.Make (c.Address (root.Global name_l 1) c.Here)) (c.Then (c.OnLock lock.Release (c.Address (root.Global name_l 1) c.Here)) (c.Then (c.Set 2 (c.Const 0)) (c.Then (c.Set 2 (c.Const 0)) (c.Then (c.Loop (c.Then (c.If (c.Nonzero kind.Signed (c.Binary two.Lt kind.Signed (c.Temp 2) (c.Const 10))) (c.Then (c.Set 3 (c.Binary two.Add kind.Unsigned (c.Temp 3) (c.Const 2))) (c.Then (c.Set 2 (c.Binary two.Add kind.Signed (c.Temp 2) (c.Const 1))) c.End)) (c.Then c.Break c.End)) c.End)) (c.Then (c.OnLock lock.Acquire (c.Address (root.Global name_l 1) c.Here)) (c.Then (c.Store (root.Global name_x 1) c.Here (c.Const 4)) (c.Then (c.OnLock lock.Release (c.Address (root.Global name_l 1) c.Here)) (c.Then (c.Return (Some (c.Temp 0))) c.End))))))))))) }) (s.Then 1 (s.Set ([]) ([])) s.NoBlock (s.Then 2 (s.Set ([]) ([])) s.NoBlock (s.Then 3 (s.MakeLock 1 (record { name = name_iv; args = ([]) }) ([]) ([])) s.NoBlock (s.Then 4 (s.Fold name_iv 0 ([]) ((Number (pos 3)) ∷ []) ([])) s.NoBlock (s.Then 5 (s.Release 1 2 ([])) s.NoBlock (s.Then 6 (s.Release 1 2 ([])) s.NoBlock (s.Then 7 (s.Set ([]) ([])) s.NoBlock (s.Then 8 (s.Set ([]) ([])) s.NoBlock (s.Then 9 (s.While (record { opened = (sort.Int ∷ sort.Int ∷ []); facts = ((Rel relation.Le (Number (pos 0)) (Var 0 sort.Int)) ∷ (Rel relation.Le (Var 0 sort.Int) (Number (pos 10))) ∷ []); locals = ((name_s, (Of unary.Vi (Number (pos 0)))) ∷ (name_t, (Of unary.Vi (Number (pos 2)))) ∷ (name_i, (Of unary.Vi (Var 0 sort.Int))) ∷ (name_x1, (Of unary.Vi (Var 1 sort.Int))) ∷ []); items = ((Lock (Number (pos 64)) (Global name_l) (record { name = name_iv; args = ([]) })) ∷ []) }) (record { opened = (sort.Int ∷ sort.Int ∷ []); facts = ((Rel relation.Le (Number (pos 0)) (Var 0 sort.Int)) ∷ (Rel relation.Le (Var 0 sort.Int) (Number (pos 10))) ∷ (Rel relation.Le (Number (pos 10)) (Var 0 sort.Int)) ∷ []); locals = ((name_s, (Of unary.Vi (Number (pos 0)))) ∷ (name_t, (Of unary.Vi (Number (pos 2)))) ∷ (name_i, (Of unary.Vi (Var 0 sort.Int))) ∷ (name_x1, (Of unary.Vi (Var 1 sort.Int))) ∷ []); items = ((Lock (Number (pos 64)) (Global name_l) (record { name = name_iv; args = ([]) })) ∷ []) }) (name_k3 ∷ name_k4 ∷ []) ([]) (name_k1 ∷ name_k2 ∷ [])) (s.WithBlock (s.Then 10 (s.Meet ((Number (pos 0)) ∷ (Number (pos 0)) ∷ []) ([])) s.NoBlock s.End) (s.WithBlock (s.Then 11 (s.If ([]) ((record { lines = ((line.Comb (((pos 1), 0) ∷ ((pos 1), 2) ∷ [])) ∷ []) }) ∷ (record { lines = ((line.Comb (((pos 1), 1) ∷ ((pos 1), 2) ∷ [])) ∷ []) }) ∷ []) ([]) ([])) (s.WithBlock (s.Then 12 (s.Set ([]) ([])) s.NoBlock (s.Then 13 (s.Set ([]) ((record { lines = ((line.Comb (((pos 1), 0) ∷ ((pos 1), 3) ∷ [])) ∷ []) }) ∷ (record { lines = ((line.Comb (((pos 1), 1) ∷ ((pos 1), 3) ∷ [])) ∷ []) }) ∷ (record { lines = ((line.Comb (((pos 1), 0) ∷ ((pos 1), 3) ∷ [])) ∷ []) }) ∷ (record { lines = ((line.Comb (((pos 1), 1) ∷ ((pos 1), 3) ∷ [])) ∷ []) }) ∷ [])) s.NoBlock (s.Then 14 (s.Fall ((Of2 binary.Add (Named name_k1) (Number (pos 1))) ∷ (Of2 binary.Add (Named name_k2) (Number (pos 2))) ∷ []) ((record { lines = ((line.Comb (((pos 1), 0) ∷ ((pos 1), 3) ∷ [])) ∷ []) }) ∷ [])) s.NoBlock s.End))) (s.WithBlock (s.Then 15 (s.Break ((Named name_k1) ∷ (Named name_k2) ∷ []) ([])) s.NoBlock s.End) s.NoBlock)) s.End) s.NoBlock)) (s.Then 16 (s.Acquire 0 ([])) s.NoBlock (s.Then 17 (s.Unfold 2 ((name_k5 ∷ []) ∷ [])) (s.WithBlock (s.Then 18 (s.Store 2 ([]) ([])) s.NoBlock (s.Then 19 (s.Fold name_iv 0 ([]) ((Number (pos 4)) ∷ []) ([])) s.NoBlock (s.Then 20 (s.Release 1 2 ([])) s.NoBlock (s.Then 21 (s.Return ([]) ([]) ([])) s.NoBlock s.End)))) s.NoBlock) s.End))))))))))) ≡ (RefusedAt 6 18 1)
unfolding computing
random_630 = refl

random_631 : body_verdict (record { predicates = ((record { name = name_iv; args = ([]); cases = ((record { opened = (sort.Int ∷ []); facts = ((Rel relation.Le (Number (pos 0)) (Var 0 sort.Int)) ∷ (Rel relation.Le (Var 0 sort.Int) (Number (pos 50))) ∷ []); locals = []; items = ((Data (Number (pos 64)) (Global name_x) (Of2 binary.Cons (Of unary.Vi (Var 0 sort.Int)) Nil)) ∷ []) }) ∷ []) }) ∷ []); specs = ((record { is_void = false; name = name_main; params = ([]); vars = []; pre = (record { opened = []; facts = ([]); locals = []; items = ((Data (Number (pos 64)) (Global name_x) (Of2 binary.Cons (Of unary.Vi (Number (pos 3))) Nil)) ∷ (Data (Number (pos 64)) (Global name_l) (Of2 binary.Cons (Of unary.Vi (Number (pos 0))) Nil)) ∷ []) }); post = (record { opened = []; facts = ([]); locals = []; items = ((Lock (Number (pos 64)) (Global name_l) (record { name = name_iv; args = ([]) })) ∷ []) }) }) ∷ []) }) (record { is_void = false; name = name_main; params = ([]); vars = []; pre = (record { opened = []; facts = ([]); locals = []; items = ((Data (Number (pos 64)) (Global name_x) (Of2 binary.Cons (Of unary.Vi (Number (pos 3))) Nil)) ∷ (Data (Number (pos 64)) (Global name_l) (Of2 binary.Cons (Of unary.Vi (Number (pos 0))) Nil)) ∷ []) }); post = (record { opened = []; facts = ([]); locals = []; items = ((Lock (Number (pos 64)) (Global name_l) (record { name = name_iv; args = ([]) })) ∷ []) }) }) (record { temps = (name_s ∷ name_t ∷ name_i ∷ name_x1 ∷ name_d0 ∷ name_p1 ∷ name_q1 ∷ []); body = (c.Then (c.Set 0 (c.Const 0)) (c.Then (c.Set 1 (c.Const 2)) (c.Then (c.OnLock lock.Make (c.Address (root.Global name_l 1) c.Here)) (c.Then (c.OnLock lock.Release (c.Address (root.Global name_l 1) c.Here)) (c.Then (c.Set 3 (c.Const 0)) (c.Then (c.Set 2 (c.Const 0)) (c.Then (c.Loop (c.Then (c.If (c.Nonzero kind.Signed (c.Binary two.Lt kind.Signed (c.Temp 2) (c.Const 10))) (c.Then (c.Set 3 (c.Binary two.Add kind.Unsigned (c.Temp 3) (c.Const 2))) (c.Then (c.Set 2 (c.Binary two.Add kind.Signed (c.Temp 2) (c.Const 1))) c.End)) (c.Then c.Break c.End)) c.End)) (c.Then (c.OnLock lock.Acquire (c.Address (root.Global name_l 1) c.Here)) (c.Then (c.Store (root.Global name_x 1) c.Here (c.Const 4)) (c.Then (c.OnLock lock.Release (c.Address (root.Global name_l 1) c.Here)) (c.Then (c.Return (Some (c.Temp 0))) c.End))))))))))) }) (s.Then 1 (s.Set ([]) ([])) s.NoBlock (s.Then 2 (s.Set ([]) ([])) s.NoBlock (s.Then 3 (s.MakeLock 1 (record { name = name_iv; args = ([]) }) ([]) ([])) s.NoBlock (s.Then 4 (s.Fold name_iv 0 ([]) ((Number (pos 3)) ∷ []) ([])) s.NoBlock (s.Then 5 (s.Release 1 2 ([])) s.NoBlock (s.Then 6 (s.Set ([]) ([])) s.NoBlock (s.Then 7 (s.Set ([]) ([])) s.NoBlock (s.Then 8 (s.While (record { opened = (sort.Int ∷ sort.Int ∷ []); facts = ((Rel relation.Le (Number (pos 0)) (Var 0 sort.Int)) ∷ (Rel relation.Le (Var 0 sort.Int) (Number (pos 10))) ∷ []); locals = ((name_s, (Of unary.Vi (Number (pos 0)))) ∷ (name_t, (Of unary.Vi (Number (pos 2)))) ∷ (name_i, (Of unary.Vi (Var 0 sort.Int))) ∷ (name_x1, (Of unary.Vi (Var 1 sort.Int))) ∷ []); items = ((Lock (Number (pos 64)) (Global name_l) (record { name = name_iv; args = ([]) })) ∷ []) }) (record { opened = (sort.Int ∷ sort.Int ∷ []); facts = ((Rel relation.Le (Number (pos 0)) (Var 0 sort.Int)) ∷ (Rel relation.Le (Var 0 sort.Int) (Number (pos 10))) ∷ (Rel relation.Le (Number (pos 10)) (Var 0 sort.Int)) ∷ []); locals = ((name_s, (Of unary.Vi (Number (pos 0)))) ∷ (name_t, (Of unary.Vi (Number (pos 2)))) ∷ (name_i, (Of unary.Vi (Var 0 sort.Int))) ∷ (name_x1, (Of unary.Vi (Var 1 sort.Int))) ∷ []); items = ((Lock (Number (pos 64)) (Global name_l) (record { name = name_iv; args = ([]) })) ∷ []) }) (name_k3 ∷ name_k4 ∷ []) ([]) (name_k1 ∷ name_k2 ∷ [])) (s.WithBlock (s.Then 9 (s.Meet ((Number (pos 0)) ∷ (Number (pos 0)) ∷ []) ([])) s.NoBlock s.End) (s.WithBlock (s.Then 10 (s.If ([]) ((record { lines = ((line.Comb (((pos 1), 0) ∷ ((pos 1), 2) ∷ [])) ∷ []) }) ∷ (record { lines = ((line.Comb (((pos 1), 1) ∷ ((pos 1), 2) ∷ [])) ∷ []) }) ∷ []) ([]) ([])) (s.WithBlock (s.Then 11 (s.Set ([]) ([])) s.NoBlock (s.Then 12 (s.Set ([]) ((record { lines = ((line.Comb (((pos 1), 0) ∷ ((pos 1), 3) ∷ [])) ∷ []) }) ∷ (record { lines = ((line.Comb (((pos 1), 1) ∷ ((pos 1), 3) ∷ [])) ∷ []) }) ∷ (record { lines = ((line.Comb (((pos 1), 0) ∷ ((pos 1), 3) ∷ [])) ∷ []) }) ∷ (record { lines = ((line.Comb (((pos 1), 1) ∷ ((pos 1), 3) ∷ [])) ∷ []) }) ∷ [])) s.NoBlock (s.Then 13 (s.Fall ((Of2 binary.Add (Named name_k1) (Number (pos 1))) ∷ (Of2 binary.Add (Named name_k2) (Number (pos 2))) ∷ []) ((record { lines = ((line.Comb (((pos 1), 0) ∷ ((pos 1), 3) ∷ [])) ∷ []) }) ∷ [])) s.NoBlock s.End))) (s.WithBlock (s.Then 14 (s.Break ((Named name_k1) ∷ (Named name_k2) ∷ []) ([])) s.NoBlock s.End) s.NoBlock)) s.End) s.NoBlock)) (s.Then 15 (s.Acquire 0 ([])) s.NoBlock (s.Then 16 (s.Unfold 2 ((name_k5 ∷ []) ∷ [])) (s.WithBlock (s.Then 17 (s.Store 2 ([]) ([])) s.NoBlock (s.Then 18 (s.Fold name_iv 0 ([]) ((Number (pos 4)) ∷ []) ([])) s.NoBlock (s.Then 19 (s.Release 1 2 ([])) s.NoBlock (s.Then 20 (s.Release 1 2 ([])) s.NoBlock (s.Then 21 (s.Return ([]) ([]) ([])) s.NoBlock s.End))))) s.NoBlock) s.End)))))))))) ≡ (RefusedAt 20 18 1)
unfolding computing
random_631 = refl

random_632 : body_verdict (record { predicates = ((record { name = name_iv; args = ([]); cases = ((record { opened = (sort.Int ∷ []); facts = ((Rel relation.Le (Number (pos 0)) (Var 0 sort.Int)) ∷ (Rel relation.Le (Var 0 sort.Int) (Number (pos 50))) ∷ []); locals = []; items = ((Data (Number (pos 64)) (Global name_x) (Of2 binary.Cons (Of unary.Vi (Var 0 sort.Int)) Nil)) ∷ []) }) ∷ []) }) ∷ []); specs = ((record { is_void = false; name = name_main; params = ([]); vars = []; pre = (record { opened = []; facts = ([]); locals = []; items = ((Data (Number (pos 64)) (Global name_x) (Of2 binary.Cons (Of unary.Vi (Number (pos 3))) Nil)) ∷ (Data (Number (pos 64)) (Global name_l) (Of2 binary.Cons (Of unary.Vi (Number (pos 0))) Nil)) ∷ []) }); post = (record { opened = []; facts = ([]); locals = []; items = ((Lock (Number (pos 64)) (Global name_l) (record { name = name_iv; args = ([]) })) ∷ []) }) }) ∷ []) }) (record { is_void = false; name = name_main; params = ([]); vars = []; pre = (record { opened = []; facts = ([]); locals = []; items = ((Data (Number (pos 64)) (Global name_x) (Of2 binary.Cons (Of unary.Vi (Number (pos 3))) Nil)) ∷ (Data (Number (pos 64)) (Global name_l) (Of2 binary.Cons (Of unary.Vi (Number (pos 0))) Nil)) ∷ []) }); post = (record { opened = []; facts = ([]); locals = []; items = ((Lock (Number (pos 64)) (Global name_l) (record { name = name_iv; args = ([]) })) ∷ []) }) }) (record { temps = (name_s ∷ name_t ∷ name_i ∷ name_x1 ∷ name_d0 ∷ name_p1 ∷ name_q1 ∷ []); body = (c.Then (c.Set 0 (c.Const 0)) (c.Then (c.Set 1 (c.Const 2)) (c.Then (c.OnLock lock.Make (c.Address (root.Global name_l 1) c.Here)) (c.Then (c.OnLock lock.Release (c.Address (root.Global name_l 1) c.Here)) (c.Then (c.Set 3 (c.Const 0)) (c.Then (c.Set 2 (c.Const 0)) (c.Then (c.Loop (c.Then (c.If (c.Nonzero kind.Signed (c.Binary two.Lt kind.Signed (c.Temp 2) (c.Const 10))) (c.Then (c.Set 3 (c.Binary two.Add kind.Unsigned (c.Temp 3) (c.Const 2))) (c.Then (c.Set 2 (c.Binary two.Add kind.Signed (c.Temp 2) (c.Const 1))) c.End)) (c.Then c.Break c.End)) c.End)) (c.Then (c.OnLock lock.Acquire (c.Address (root.Global name_l 1) c.Here)) (c.Then (c.Store (root.Global name_x 1) c.Here (c.Const 4)) (c.Then (c.OnLock lock.Release (c.Address (root.Global name_l 1) c.Here)) (c.Then (c.Return (Some (c.Temp 0))) c.End))))))))))) }) (s.Then 1 (s.Set ([]) ([])) s.NoBlock (s.Then 2 (s.Set ([]) ([])) s.NoBlock (s.Then 3 (s.MakeLock 1 (record { name = name_iv; args = ([]) }) ([]) ([])) s.NoBlock (s.Then 4 (s.Fold name_iv 0 ([]) ((Number (pos 3)) ∷ []) ([])) s.NoBlock (s.Then 5 (s.Release 1 2 ([])) s.NoBlock (s.Then 6 (s.Set ([]) ([])) s.NoBlock (s.Then 7 (s.Set ([]) ([])) s.NoBlock (s.Then 8 (s.While (record { opened = (sort.Int ∷ sort.Int ∷ []); facts = ((Rel relation.Le (Number (pos 0)) (Var 0 sort.Int)) ∷ (Rel relation.Le (Var 0 sort.Int) (Number (pos 10))) ∷ []); locals = ((name_s, (Of unary.Vi (Number (pos 0)))) ∷ (name_t, (Of unary.Vi (Number (pos 2)))) ∷ (name_i, (Of unary.Vi (Var 0 sort.Int))) ∷ (name_x1, (Of unary.Vi (Var 1 sort.Int))) ∷ []); items = ((Lock (Number (pos 64)) (Global name_l) (record { name = name_iv; args = ([]) })) ∷ []) }) (record { opened = (sort.Int ∷ sort.Int ∷ []); facts = ((Rel relation.Le (Number (pos 0)) (Var 0 sort.Int)) ∷ (Rel relation.Le (Var 0 sort.Int) (Number (pos 10))) ∷ (Rel relation.Le (Number (pos 10)) (Var 0 sort.Int)) ∷ []); locals = ((name_s, (Of unary.Vi (Number (pos 0)))) ∷ (name_t, (Of unary.Vi (Number (pos 2)))) ∷ (name_i, (Of unary.Vi (Var 0 sort.Int))) ∷ (name_x1, (Of unary.Vi (Var 1 sort.Int))) ∷ []); items = ((Lock (Number (pos 64)) (Global name_l) (record { name = name_iv; args = ([]) })) ∷ []) }) (name_k3 ∷ name_k4 ∷ []) ([]) (name_k1 ∷ name_k2 ∷ [])) (s.WithBlock (s.Then 9 (s.Meet ((Number (pos 0)) ∷ (Number (pos 0)) ∷ []) ([])) s.NoBlock s.End) (s.WithBlock (s.Then 10 (s.If ([]) ((record { lines = ((line.Comb (((pos 1), 0) ∷ ((pos 1), 2) ∷ [])) ∷ []) }) ∷ (record { lines = ((line.Comb (((pos 1), 1) ∷ ((pos 1), 2) ∷ [])) ∷ []) }) ∷ []) ([]) ([])) (s.WithBlock (s.Then 11 (s.Set ([]) ([])) s.NoBlock (s.Then 12 (s.Set ([]) ((record { lines = ((line.Comb (((pos 1), 0) ∷ ((pos 1), 3) ∷ [])) ∷ []) }) ∷ (record { lines = ((line.Comb (((pos 1), 1) ∷ ((pos 1), 3) ∷ [])) ∷ []) }) ∷ (record { lines = ((line.Comb (((pos 1), 0) ∷ ((pos 1), 3) ∷ [])) ∷ []) }) ∷ (record { lines = ((line.Comb (((pos 1), 1) ∷ ((pos 1), 3) ∷ [])) ∷ []) }) ∷ [])) s.NoBlock (s.Then 13 (s.Fall ((Of2 binary.Add (Named name_k1) (Number (pos 1))) ∷ (Of2 binary.Add (Named name_k2) (Number (pos 2))) ∷ (Of unary.Vi (Number (pos 0))) ∷ []) ((record { lines = ((line.Comb (((pos 1), 0) ∷ ((pos 1), 3) ∷ [])) ∷ []) }) ∷ [])) s.NoBlock s.End))) (s.WithBlock (s.Then 14 (s.Break ((Named name_k1) ∷ (Named name_k2) ∷ []) ([])) s.NoBlock s.End) s.NoBlock)) s.End) s.NoBlock)) (s.Then 15 (s.Acquire 0 ([])) s.NoBlock (s.Then 16 (s.Unfold 2 ((name_k5 ∷ []) ∷ [])) (s.WithBlock (s.Then 17 (s.Store 2 ([]) ([])) s.NoBlock (s.Then 18 (s.Fold name_iv 0 ([]) ((Number (pos 4)) ∷ []) ([])) s.NoBlock (s.Then 19 (s.Release 1 2 ([])) s.NoBlock (s.Then 20 (s.Return ([]) ([]) ([])) s.NoBlock s.End)))) s.NoBlock) s.End)))))))))) ≡ (RefusedAt 13 10 1)
unfolding computing
random_632 = refl

random_633 : body_verdict (record { predicates = ((record { name = name_iv; args = ([]); cases = ((record { opened = (sort.Int ∷ []); facts = ((Rel relation.Le (Number (pos 0)) (Var 0 sort.Int)) ∷ (Rel relation.Le (Var 0 sort.Int) (Number (pos 50))) ∷ []); locals = []; items = ((Data (Number (pos 64)) (Global name_x) (Of2 binary.Cons (Of unary.Vi (Var 0 sort.Int)) Nil)) ∷ []) }) ∷ []) }) ∷ []); specs = ((record { is_void = false; name = name_main; params = ([]); vars = []; pre = (record { opened = []; facts = ([]); locals = []; items = ((Data (Number (pos 64)) (Global name_x) (Of2 binary.Cons (Of unary.Vi (Number (pos 3))) Nil)) ∷ (Data (Number (pos 64)) (Global name_l) (Of2 binary.Cons (Of unary.Vi (Number (pos 0))) Nil)) ∷ []) }); post = (record { opened = []; facts = ([]); locals = []; items = ((Lock (Number (pos 64)) (Global name_l) (record { name = name_iv; args = ([]) })) ∷ []) }) }) ∷ []) }) (record { is_void = false; name = name_main; params = ([]); vars = []; pre = (record { opened = []; facts = ([]); locals = []; items = ((Data (Number (pos 64)) (Global name_x) (Of2 binary.Cons (Of unary.Vi (Number (pos 3))) Nil)) ∷ (Data (Number (pos 64)) (Global name_l) (Of2 binary.Cons (Of unary.Vi (Number (pos 0))) Nil)) ∷ []) }); post = (record { opened = []; facts = ([]); locals = []; items = ((Lock (Number (pos 64)) (Global name_l) (record { name = name_iv; args = ([]) })) ∷ []) }) }) (record { temps = (name_s ∷ name_t ∷ name_i ∷ name_x1 ∷ name_d0 ∷ name_p1 ∷ name_q1 ∷ []); body = (c.Then (c.Set 0 (c.Const 0)) (c.Then (c.Set 1 (c.Const 2)) (c.Then (c.OnLock lock.Make (c.Address (root.Global name_l 1) c.Here)) (c.Then (c.OnLock lock.Release (c.Address (root.Global name_l 1) c.Here)) (c.Then (c.Set 3 (c.Const 0)) (c.Then (c.Set 2 (c.Const 0)) (c.Then (c.Loop (c.Then (c.If (c.Nonzero kind.Signed (c.Binary two.Lt kind.Signed (c.Temp 2) (c.Const 10))) (c.Then (c.Set 3 (c.Binary two.Add kind.Unsigned (c.Temp 3) (c.Const 2))) (c.Then (c.Set 2 (c.Binary two.Add kind.Signed (c.Temp 2) (c.Const 1))) c.End)) (c.Then c.Break c.End)) c.End)) (c.Then (c.OnLock lock.Acquire (c.Address (root.Global name_l 1) c.Here)) (c.Then (c.Store (root.Global name_x 1) c.Here (c.Const 4)) (c.Then (c.OnLock lock.Release (c.Address (root.Global name_l 1) c.Here)) (c.Then (c.Return (Some (c.Temp 0))) c.End))))))))))) }) (s.Then 1 (s.Set ([]) ([])) s.NoBlock (s.Then 2 (s.Set ([]) ([])) s.NoBlock (s.Then 3 (s.MakeLock 1 (record { name = name_iv; args = ([]) }) ([]) ([])) s.NoBlock (s.Then 4 (s.Fold name_iv 0 ([]) ((Number (pos 3)) ∷ []) ([])) s.NoBlock (s.Then 5 (s.Release 1 2 ([])) s.NoBlock (s.Then 6 (s.Set ([]) ([])) s.NoBlock (s.Then 7 (s.Set ([]) ([])) s.NoBlock (s.Then 8 (s.Set ([]) ([])) s.NoBlock (s.Then 9 (s.While (record { opened = (sort.Int ∷ sort.Int ∷ []); facts = ((Rel relation.Le (Number (pos 0)) (Var 0 sort.Int)) ∷ (Rel relation.Le (Var 0 sort.Int) (Number (pos 10))) ∷ []); locals = ((name_s, (Of unary.Vi (Number (pos 0)))) ∷ (name_t, (Of unary.Vi (Number (pos 2)))) ∷ (name_i, (Of unary.Vi (Var 0 sort.Int))) ∷ (name_x1, (Of unary.Vi (Var 1 sort.Int))) ∷ []); items = ((Lock (Number (pos 64)) (Global name_l) (record { name = name_iv; args = ([]) })) ∷ []) }) (record { opened = (sort.Int ∷ sort.Int ∷ []); facts = ((Rel relation.Le (Number (pos 0)) (Var 0 sort.Int)) ∷ (Rel relation.Le (Var 0 sort.Int) (Number (pos 10))) ∷ (Rel relation.Le (Number (pos 10)) (Var 0 sort.Int)) ∷ []); locals = ((name_s, (Of unary.Vi (Number (pos 0)))) ∷ (name_t, (Of unary.Vi (Number (pos 2)))) ∷ (name_i, (Of unary.Vi (Var 0 sort.Int))) ∷ (name_x1, (Of unary.Vi (Var 1 sort.Int))) ∷ []); items = ((Lock (Number (pos 64)) (Global name_l) (record { name = name_iv; args = ([]) })) ∷ []) }) (name_k3 ∷ name_k4 ∷ []) ([]) (name_k1 ∷ name_k2 ∷ [])) (s.WithBlock (s.Then 10 (s.Meet ((Number (pos 0)) ∷ (Number (pos 0)) ∷ []) ([])) s.NoBlock s.End) (s.WithBlock (s.Then 11 (s.If ([]) ((record { lines = ((line.Comb (((pos 1), 0) ∷ ((pos 1), 2) ∷ [])) ∷ []) }) ∷ (record { lines = ((line.Comb (((pos 1), 1) ∷ ((pos 1), 2) ∷ [])) ∷ []) }) ∷ []) ([]) ([])) (s.WithBlock (s.Then 12 (s.Set ([]) ([])) s.NoBlock (s.Then 13 (s.Set ([]) ((record { lines = ((line.Comb (((pos 1), 0) ∷ ((pos 1), 3) ∷ [])) ∷ []) }) ∷ (record { lines = ((line.Comb (((pos 1), 1) ∷ ((pos 1), 3) ∷ [])) ∷ []) }) ∷ (record { lines = ((line.Comb (((pos 1), 0) ∷ ((pos 1), 3) ∷ [])) ∷ []) }) ∷ (record { lines = ((line.Comb (((pos 1), 1) ∷ ((pos 1), 3) ∷ [])) ∷ []) }) ∷ [])) s.NoBlock (s.Then 14 (s.Fall ((Of2 binary.Add (Named name_k1) (Number (pos 1))) ∷ (Of2 binary.Add (Named name_k2) (Number (pos 2))) ∷ []) ((record { lines = ((line.Comb (((pos 1), 0) ∷ ((pos 1), 3) ∷ [])) ∷ []) }) ∷ [])) s.NoBlock s.End))) (s.WithBlock (s.Then 15 (s.Break ((Named name_k1) ∷ (Named name_k2) ∷ []) ([])) s.NoBlock s.End) s.NoBlock)) s.End) s.NoBlock)) (s.Then 16 (s.Acquire 0 ([])) s.NoBlock (s.Then 17 (s.Unfold 2 ((name_k5 ∷ []) ∷ [])) (s.WithBlock (s.Then 18 (s.Store 2 ([]) ([])) s.NoBlock (s.Then 19 (s.Release 1 2 ([])) s.NoBlock (s.Then 20 (s.Return ([]) ([]) ([])) s.NoBlock s.End))) s.NoBlock) s.End))))))))))) ≡ (RefusedAt 8 2 1)
unfolding computing
random_633 = refl

random_634 : body_verdict (record { predicates = ((record { name = name_ov; args = ([]); cases = ((record { opened = (sort.Val ∷ []); facts = ([]); locals = []; items = ((Data (Number (pos 64)) (Global name_x) (Of2 binary.Cons (Var 0 sort.Val) Nil)) ∷ []) }) ∷ []) }) ∷ []); specs = ((record { is_void = false; name = name_main; params = ([]); vars = []; pre = (record { opened = []; facts = ([]); locals = []; items = ((Data (Number (pos 64)) (Global name_arr) (Of2 binary.Cons (Of unary.Vi (Number (pos 1))) (Of2 binary.Cons (Of unary.Vi (Number (pos 2))) (Of2 binary.Cons (Of unary.Vi (Number (pos 0))) (Of2 binary.Cons (Of unary.Vi (Number (pos 0))) Nil))))) ∷ (Data (Number (pos 64)) (Global name_x) (Of2 binary.Cons (Of unary.Vi (Number (pos 3))) Nil)) ∷ (Data (Number (pos 64)) (Global name_l) (Of2 binary.Cons (Of unary.Vi (Number (pos 0))) Nil)) ∷ []) }); post = (record { opened = (sort.List ∷ []); facts = ((Rel relation.Eq (Var 0 sort.Val) (Of unary.Vi (Number (pos 1)))) ∷ []); locals = []; items = ((Data (Number (pos 64)) (Global name_arr) (Of2 binary.Cons (Of unary.Vi (Number (pos 1))) (Of2 binary.Cons (Of unary.Vi (Number (pos 2))) (Of2 binary.Cons (Of unary.Vi (Number (pos 0))) (Of2 binary.Cons (Of unary.Vi (Number (pos 0))) Nil))))) ∷ (Data (Number (pos 64)) (Global name_x) (Var 1 sort.List)) ∷ (Data (Number (pos 64)) (Global name_l) (Of2 binary.Cons Undef Nil)) ∷ []) }) }) ∷ []) }) (record { is_void = false; name = name_main; params = ([]); vars = []; pre = (record { opened = []; facts = ([]); locals = []; items = ((Data (Number (pos 64)) (Global name_arr) (Of2 binary.Cons (Of unary.Vi (Number (pos 1))) (Of2 binary.Cons (Of unary.Vi (Number (pos 2))) (Of2 binary.Cons (Of unary.Vi (Number (pos 0))) (Of2 binary.Cons (Of unary.Vi (Number (pos 0))) Nil))))) ∷ (Data (Number (pos 64)) (Global name_x) (Of2 binary.Cons (Of unary.Vi (Number (pos 3))) Nil)) ∷ (Data (Number (pos 64)) (Global name_l) (Of2 binary.Cons (Of unary.Vi (Number (pos 0))) Nil)) ∷ []) }); post = (record { opened = (sort.List ∷ []); facts = ((Rel relation.Eq (Var 0 sort.Val) (Of unary.Vi (Number (pos 1)))) ∷ []); locals = []; items = ((Data (Number (pos 64)) (Global name_arr) (Of2 binary.Cons (Of unary.Vi (Number (pos 1))) (Of2 binary.Cons (Of unary.Vi (Number (pos 2))) (Of2 binary.Cons (Of unary.Vi (Number (pos 0))) (Of2 binary.Cons (Of unary.Vi (Number (pos 0))) Nil))))) ∷ (Data (Number (pos 64)) (Global name_x) (Var 1 sort.List)) ∷ (Data (Number (pos 64)) (Global name_l) (Of2 binary.Cons Undef Nil)) ∷ []) }) }) (record { temps = (name_s ∷ name_t ∷ name_i ∷ name_x1 ∷ name_d0 ∷ name_p1 ∷ name_q1 ∷ []); body = (c.Then (c.Set 0 (c.Const 2)) (c.Then (c.Set 1 (c.Const 3)) (c.Then (c.OnLock lock.Make (c.Address (root.Global name_l 1) c.Here)) (c.Then (c.OnLock lock.Release (c.Address (root.Global name_l 1) c.Here)) (c.Then (c.Set 0 (c.Binary two.Add kind.Signed (c.Binary two.Add kind.Signed (c.Const 1) (c.Const 5)) (c.Binary two.Add kind.Signed (c.Const 10) (c.Const 2)))) (c.Then (c.OnLock lock.Acquire (c.Address (root.Global name_l 1) c.Here)) (c.Then (c.OnLock lock.Free (c.Address (root.Global name_l 1) c.Here)) (c.Then (c.Return (Some (c.Binary two.Eq kind.Signed (c.Const 1) (c.Const 1)))) c.End)))))))) }) (s.Then 1 (s.Set ([]) ([])) s.NoBlock (s.Then 2 (s.Fold name_ov 0 ([]) ((Of unary.Vi (Number (pos 3))) ∷ []) ([])) s.NoBlock (s.Then 3 (s.Set ([]) ([])) s.NoBlock (s.Then 4 (s.Naming name_k1 (Global name_l)) s.NoBlock (s.Then 5 (s.MakeLock 1 (record { name = name_ov; args = ([]) }) ([]) ([])) s.NoBlock (s.Then 6 (s.Release 3 1 ([])) s.NoBlock (s.Then 7 (s.Set ([]) ([])) s.NoBlock (s.Then 8 (s.Acquire 1 ([])) s.NoBlock (s.Then 9 (s.Unfold 3 ((name_k2 ∷ []) ∷ [])) (s.WithBlock (s.Then 10 (s.FreeLock 1 2 ([]) ([])) s.NoBlock (s.Then 11 (s.Return ((Of2 binary.Cons (Named name_k2) Nil) ∷ []) ([]) ([])) s.NoBlock s.End)) s.NoBlock) s.End))))))))) ≡ Accepted
unfolding computing
random_634 = refl

random_635 : body_verdict (record { predicates = ((record { name = name_ov; args = ([]); cases = ((record { opened = (sort.Val ∷ []); facts = ([]); locals = []; items = ((Data (Number (pos 64)) (Global name_x) (Of2 binary.Cons (Var 0 sort.Val) Nil)) ∷ []) }) ∷ []) }) ∷ []); specs = ((record { is_void = false; name = name_main; params = ([]); vars = []; pre = (record { opened = []; facts = ([]); locals = []; items = ((Data (Number (pos 64)) (Global name_arr) (Of2 binary.Cons (Of unary.Vi (Number (pos 1))) (Of2 binary.Cons (Of unary.Vi (Number (pos 2))) (Of2 binary.Cons (Of unary.Vi (Number (pos 0))) (Of2 binary.Cons (Of unary.Vi (Number (pos 0))) Nil))))) ∷ (Data (Number (pos 64)) (Global name_x) (Of2 binary.Cons (Of unary.Vi (Number (pos 3))) Nil)) ∷ (Data (Number (pos 64)) (Global name_l) (Of2 binary.Cons (Of unary.Vi (Number (pos 0))) Nil)) ∷ []) }); post = (record { opened = (sort.List ∷ []); facts = ((Rel relation.Eq (Var 0 sort.Val) (Of unary.Vi (Number (pos 1)))) ∷ []); locals = []; items = ((Data (Number (pos 64)) (Global name_arr) (Of2 binary.Cons (Of unary.Vi (Number (pos 1))) (Of2 binary.Cons (Of unary.Vi (Number (pos 2))) (Of2 binary.Cons (Of unary.Vi (Number (pos 0))) (Of2 binary.Cons (Of unary.Vi (Number (pos 0))) Nil))))) ∷ (Data (Number (pos 64)) (Global name_x) (Var 1 sort.List)) ∷ (Data (Number (pos 64)) (Global name_l) (Of2 binary.Cons Undef Nil)) ∷ []) }) }) ∷ []) }) (record { is_void = false; name = name_main; params = ([]); vars = []; pre = (record { opened = []; facts = ([]); locals = []; items = ((Data (Number (pos 64)) (Global name_arr) (Of2 binary.Cons (Of unary.Vi (Number (pos 1))) (Of2 binary.Cons (Of unary.Vi (Number (pos 2))) (Of2 binary.Cons (Of unary.Vi (Number (pos 0))) (Of2 binary.Cons (Of unary.Vi (Number (pos 0))) Nil))))) ∷ (Data (Number (pos 64)) (Global name_x) (Of2 binary.Cons (Of unary.Vi (Number (pos 3))) Nil)) ∷ (Data (Number (pos 64)) (Global name_l) (Of2 binary.Cons (Of unary.Vi (Number (pos 0))) Nil)) ∷ []) }); post = (record { opened = (sort.List ∷ []); facts = ((Rel relation.Eq (Var 0 sort.Val) (Of unary.Vi (Number (pos 1)))) ∷ []); locals = []; items = ((Data (Number (pos 64)) (Global name_arr) (Of2 binary.Cons (Of unary.Vi (Number (pos 1))) (Of2 binary.Cons (Of unary.Vi (Number (pos 2))) (Of2 binary.Cons (Of unary.Vi (Number (pos 0))) (Of2 binary.Cons (Of unary.Vi (Number (pos 0))) Nil))))) ∷ (Data (Number (pos 64)) (Global name_x) (Var 1 sort.List)) ∷ (Data (Number (pos 64)) (Global name_l) (Of2 binary.Cons Undef Nil)) ∷ []) }) }) (record { temps = (name_s ∷ name_t ∷ name_i ∷ name_x1 ∷ name_d0 ∷ name_p1 ∷ name_q1 ∷ []); body = (c.Then (c.Set 0 (c.Const 2)) (c.Then (c.Set 1 (c.Const 3)) (c.Then (c.OnLock lock.Make (c.Address (root.Global name_l 1) c.Here)) (c.Then (c.OnLock lock.Release (c.Address (root.Global name_l 1) c.Here)) (c.Then (c.Set 0 (c.Binary two.Add kind.Signed (c.Binary two.Add kind.Signed (c.Const 1) (c.Const 5)) (c.Binary two.Add kind.Signed (c.Const 10) (c.Const 2)))) (c.Then (c.OnLock lock.Acquire (c.Address (root.Global name_l 1) c.Here)) (c.Then (c.OnLock lock.Free (c.Address (root.Global name_l 1) c.Here)) (c.Then (c.Return (Some (c.Binary two.Eq kind.Signed (c.Const 1) (c.Const 1)))) c.End)))))))) }) (s.Then 1 (s.Set ([]) ([])) s.NoBlock (s.Then 2 (s.Fold name_ov 0 ([]) ((Of unary.Vi (Number (pos 3))) ∷ []) ([])) s.NoBlock (s.Then 3 (s.Set ([]) ([])) s.NoBlock (s.Then 4 (s.Naming name_k1 (Global name_l)) s.NoBlock (s.Then 5 (s.MakeLock 1 (record { name = name_ov; args = ([]) }) ([]) ([])) s.NoBlock (s.Then 6 (s.Release 3 1 ([])) s.NoBlock (s.Then 7 (s.Set ([]) ([])) s.NoBlock (s.Then 8 (s.Acquire 1 ([])) s.NoBlock (s.Then 9 (s.Unfold 3 ((name_k2 ∷ []) ∷ [])) (s.WithBlock (s.Then 10 (s.FreeLock 1 2 ([]) ([])) s.NoBlock (s.Then 11 (s.Agree 0 1 ([])) s.NoBlock s.End)) s.NoBlock) s.End))))))))) ≡ (RefusedAt 11 33 1)
unfolding computing
random_635 = refl

random_636 : body_verdict (record { predicates = ((record { name = name_ov; args = ([]); cases = ((record { opened = (sort.Val ∷ []); facts = ([]); locals = []; items = ((Data (Number (pos 64)) (Global name_x) (Of2 binary.Cons (Var 0 sort.Val) Nil)) ∷ []) }) ∷ []) }) ∷ []); specs = ((record { is_void = false; name = name_main; params = ([]); vars = []; pre = (record { opened = []; facts = ([]); locals = []; items = ((Data (Number (pos 64)) (Global name_arr) (Of2 binary.Cons (Of unary.Vi (Number (pos 1))) (Of2 binary.Cons (Of unary.Vi (Number (pos 2))) (Of2 binary.Cons (Of unary.Vi (Number (pos 0))) (Of2 binary.Cons (Of unary.Vi (Number (pos 0))) Nil))))) ∷ (Data (Number (pos 64)) (Global name_x) (Of2 binary.Cons (Of unary.Vi (Number (pos 3))) Nil)) ∷ (Data (Number (pos 64)) (Global name_l) (Of2 binary.Cons (Of unary.Vi (Number (pos 0))) Nil)) ∷ []) }); post = (record { opened = (sort.List ∷ []); facts = ((Rel relation.Eq (Var 0 sort.Val) (Of unary.Vi (Number (pos 1)))) ∷ []); locals = []; items = ((Data (Number (pos 64)) (Global name_arr) (Of2 binary.Cons (Of unary.Vi (Number (pos 1))) (Of2 binary.Cons (Of unary.Vi (Number (pos 2))) (Of2 binary.Cons (Of unary.Vi (Number (pos 0))) (Of2 binary.Cons (Of unary.Vi (Number (pos 0))) Nil))))) ∷ (Data (Number (pos 64)) (Global name_x) (Var 1 sort.List)) ∷ (Data (Number (pos 64)) (Global name_l) (Of2 binary.Cons Undef Nil)) ∷ []) }) }) ∷ []) }) (record { is_void = false; name = name_main; params = ([]); vars = []; pre = (record { opened = []; facts = ([]); locals = []; items = ((Data (Number (pos 64)) (Global name_arr) (Of2 binary.Cons (Of unary.Vi (Number (pos 1))) (Of2 binary.Cons (Of unary.Vi (Number (pos 2))) (Of2 binary.Cons (Of unary.Vi (Number (pos 0))) (Of2 binary.Cons (Of unary.Vi (Number (pos 0))) Nil))))) ∷ (Data (Number (pos 64)) (Global name_x) (Of2 binary.Cons (Of unary.Vi (Number (pos 3))) Nil)) ∷ (Data (Number (pos 64)) (Global name_l) (Of2 binary.Cons (Of unary.Vi (Number (pos 0))) Nil)) ∷ []) }); post = (record { opened = (sort.List ∷ []); facts = ((Rel relation.Eq (Var 0 sort.Val) (Of unary.Vi (Number (pos 1)))) ∷ []); locals = []; items = ((Data (Number (pos 64)) (Global name_arr) (Of2 binary.Cons (Of unary.Vi (Number (pos 1))) (Of2 binary.Cons (Of unary.Vi (Number (pos 2))) (Of2 binary.Cons (Of unary.Vi (Number (pos 0))) (Of2 binary.Cons (Of unary.Vi (Number (pos 0))) Nil))))) ∷ (Data (Number (pos 64)) (Global name_x) (Var 1 sort.List)) ∷ (Data (Number (pos 64)) (Global name_l) (Of2 binary.Cons Undef Nil)) ∷ []) }) }) (record { temps = (name_s ∷ name_t ∷ name_i ∷ name_x1 ∷ name_d0 ∷ name_p1 ∷ name_q1 ∷ []); body = (c.Then (c.Set 0 (c.Const 2)) (c.Then (c.Set 1 (c.Const 3)) (c.Then (c.OnLock lock.Make (c.Address (root.Global name_l 1) c.Here)) (c.Then (c.OnLock lock.Release (c.Address (root.Global name_l 1) c.Here)) (c.Then (c.Set 0 (c.Binary two.Add kind.Signed (c.Binary two.Add kind.Signed (c.Const 1) (c.Const 5)) (c.Binary two.Add kind.Signed (c.Const 10) (c.Const 2)))) (c.Then (c.OnLock lock.Acquire (c.Address (root.Global name_l 1) c.Here)) (c.Then (c.OnLock lock.Free (c.Address (root.Global name_l 1) c.Here)) (c.Then (c.Return (Some (c.Binary two.Eq kind.Signed (c.Const 1) (c.Const 1)))) c.End)))))))) }) (s.Then 1 (s.Set ([]) ([])) s.NoBlock (s.Then 2 (s.Fold name_ov 0 ([]) ((Of unary.Vi (Number (pos 3))) ∷ []) ([])) s.NoBlock (s.Then 3 (s.Set ([]) ([])) s.NoBlock (s.Then 4 (s.Naming name_k1 (Global name_l)) s.NoBlock (s.Then 5 (s.MakeLock 1 (record { name = name_ov; args = ([]) }) ([]) ([])) s.NoBlock (s.Then 6 (s.Release 3 1 ([])) s.NoBlock (s.Then 7 (s.Set ([]) ([])) s.NoBlock (s.Then 8 (s.Acquire 1 ([])) s.NoBlock (s.Then 9 (s.Unfold 3 ((name_k2 ∷ []) ∷ [])) (s.WithBlock (s.Then 10 (s.FreeLock 1 3 ([]) ([])) s.NoBlock (s.Then 11 (s.Return ((Of2 binary.Cons (Named name_k2) Nil) ∷ []) ([]) ([])) s.NoBlock s.End)) s.NoBlock) s.End))))))))) ≡ (RefusedAt 10 19 1)
unfolding computing
random_636 = refl

random_637 : body_verdict (record { predicates = ((record { name = name_ov; args = ([]); cases = ((record { opened = (sort.Val ∷ []); facts = ([]); locals = []; items = ((Data (Number (pos 64)) (Global name_x) (Of2 binary.Cons (Var 0 sort.Val) Nil)) ∷ []) }) ∷ []) }) ∷ []); specs = ((record { is_void = false; name = name_main; params = ([]); vars = []; pre = (record { opened = []; facts = ([]); locals = []; items = ((Data (Number (pos 64)) (Global name_arr) (Of2 binary.Cons (Of unary.Vi (Number (pos 1))) (Of2 binary.Cons (Of unary.Vi (Number (pos 2))) (Of2 binary.Cons (Of unary.Vi (Number (pos 0))) (Of2 binary.Cons (Of unary.Vi (Number (pos 0))) Nil))))) ∷ (Data (Number (pos 64)) (Global name_x) (Of2 binary.Cons (Of unary.Vi (Number (pos 3))) Nil)) ∷ (Data (Number (pos 64)) (Global name_l) (Of2 binary.Cons (Of unary.Vi (Number (pos 0))) Nil)) ∷ []) }); post = (record { opened = (sort.List ∷ []); facts = ((Rel relation.Eq (Var 0 sort.Val) (Of unary.Vi (Number (pos 1)))) ∷ []); locals = []; items = ((Data (Number (pos 64)) (Global name_arr) (Of2 binary.Cons (Of unary.Vi (Number (pos 1))) (Of2 binary.Cons (Of unary.Vi (Number (pos 2))) (Of2 binary.Cons (Of unary.Vi (Number (pos 0))) (Of2 binary.Cons (Of unary.Vi (Number (pos 0))) Nil))))) ∷ (Data (Number (pos 64)) (Global name_x) (Var 1 sort.List)) ∷ (Data (Number (pos 64)) (Global name_l) (Of2 binary.Cons Undef Nil)) ∷ []) }) }) ∷ []) }) (record { is_void = false; name = name_main; params = ([]); vars = []; pre = (record { opened = []; facts = ([]); locals = []; items = ((Data (Number (pos 64)) (Global name_arr) (Of2 binary.Cons (Of unary.Vi (Number (pos 1))) (Of2 binary.Cons (Of unary.Vi (Number (pos 2))) (Of2 binary.Cons (Of unary.Vi (Number (pos 0))) (Of2 binary.Cons (Of unary.Vi (Number (pos 0))) Nil))))) ∷ (Data (Number (pos 64)) (Global name_x) (Of2 binary.Cons (Of unary.Vi (Number (pos 3))) Nil)) ∷ (Data (Number (pos 64)) (Global name_l) (Of2 binary.Cons (Of unary.Vi (Number (pos 0))) Nil)) ∷ []) }); post = (record { opened = (sort.List ∷ []); facts = ((Rel relation.Eq (Var 0 sort.Val) (Of unary.Vi (Number (pos 1)))) ∷ []); locals = []; items = ((Data (Number (pos 64)) (Global name_arr) (Of2 binary.Cons (Of unary.Vi (Number (pos 1))) (Of2 binary.Cons (Of unary.Vi (Number (pos 2))) (Of2 binary.Cons (Of unary.Vi (Number (pos 0))) (Of2 binary.Cons (Of unary.Vi (Number (pos 0))) Nil))))) ∷ (Data (Number (pos 64)) (Global name_x) (Var 1 sort.List)) ∷ (Data (Number (pos 64)) (Global name_l) (Of2 binary.Cons Undef Nil)) ∷ []) }) }) (record { temps = (name_s ∷ name_t ∷ name_i ∷ name_x1 ∷ name_d0 ∷ name_p1 ∷ name_q1 ∷ []); body = (c.Then (c.Set 0 (c.Const 2)) (c.Then (c.Set 1 (c.Const 3)) (c.Then (c.OnLock lock.Make (c.Address (root.Global name_l 1) c.Here)) (c.Then (c.OnLock lock.Release (c.Address (root.Global name_l 1) c.Here)) (c.Then (c.Set 0 (c.Binary two.Add kind.Signed (c.Binary two.Add kind.Signed (c.Const 1) (c.Const 5)) (c.Binary two.Add kind.Signed (c.Const 10) (c.Const 2)))) (c.Then (c.OnLock lock.Acquire (c.Address (root.Global name_l 1) c.Here)) (c.Then (c.OnLock lock.Free (c.Address (root.Global name_l 1) c.Here)) (c.Then (c.Return (Some (c.Binary two.Eq kind.Signed (c.Const 1) (c.Const 1)))) c.End)))))))) }) (s.Then 1 (s.Set ([]) ([])) s.NoBlock (s.Then 2 (s.Fold name_ov 0 ([]) ((Of unary.Vi (Number (pos 3))) ∷ []) ([])) s.NoBlock (s.Then 3 (s.Set ([]) ([])) s.NoBlock (s.Then 4 (s.Naming name_k1 (Global name_l)) s.NoBlock (s.Then 5 (s.MakeLock 1 (record { name = name_ov; args = ([]) }) ([]) ([])) s.NoBlock (s.Then 6 (s.Release 3 1 ([])) s.NoBlock (s.Then 7 (s.Set ([]) ([])) s.NoBlock (s.Then 8 (s.Acquire 1 ([])) s.NoBlock (s.Then 9 (s.Unfold 3 ((name_k2 ∷ []) ∷ [])) (s.WithBlock (s.Then 10 (s.FreeLock 1 2 ([]) ([])) s.NoBlock (s.Then 11 (s.Return ((Of2 binary.Cons (Named name_ov) Nil) ∷ []) ([]) ([])) s.NoBlock s.End)) s.NoBlock) s.End))))))))) ≡ (RefusedAt 11 9 1)
unfolding computing
random_637 = refl

random_638 : body_verdict (record { predicates = ((record { name = name_ov; args = ([]); cases = ((record { opened = (sort.Val ∷ []); facts = ([]); locals = []; items = ((Data (Number (pos 64)) (Global name_x) (Of2 binary.Cons (Var 0 sort.Val) Nil)) ∷ []) }) ∷ []) }) ∷ []); specs = ((record { is_void = false; name = name_main; params = ([]); vars = []; pre = (record { opened = []; facts = ([]); locals = []; items = ((Data (Number (pos 64)) (Global name_arr) (Of2 binary.Cons (Of unary.Vi (Number (pos 2))) (Of2 binary.Cons (Of unary.Vi (Number (pos 2))) (Of2 binary.Cons (Of unary.Vi (Number (pos 0))) (Of2 binary.Cons (Of unary.Vi (Number (pos 0))) Nil))))) ∷ (Data (Number (pos 64)) (Global name_x) (Of2 binary.Cons (Of unary.Vi (Number (pos 3))) Nil)) ∷ (Data (Number (pos 64)) (Global name_l) (Of2 binary.Cons (Of unary.Vi (Number (pos 0))) Nil)) ∷ []) }); post = (record { opened = (sort.List ∷ []); facts = ((Rel relation.Eq (Var 0 sort.Val) (Of unary.Vi (Number (pos 1)))) ∷ []); locals = []; items = ((Data (Number (pos 64)) (Global name_arr) (Of2 binary.Cons (Of unary.Vi (Number (pos 1))) (Of2 binary.Cons (Of unary.Vi (Number (pos 2))) (Of2 binary.Cons (Of unary.Vi (Number (pos 0))) (Of2 binary.Cons (Of unary.Vi (Number (pos 0))) Nil))))) ∷ (Data (Number (pos 64)) (Global name_x) (Var 1 sort.List)) ∷ (Data (Number (pos 64)) (Global name_l) (Of2 binary.Cons Undef Nil)) ∷ []) }) }) ∷ []) }) (record { is_void = false; name = name_main; params = ([]); vars = []; pre = (record { opened = []; facts = ([]); locals = []; items = ((Data (Number (pos 64)) (Global name_arr) (Of2 binary.Cons (Of unary.Vi (Number (pos 2))) (Of2 binary.Cons (Of unary.Vi (Number (pos 2))) (Of2 binary.Cons (Of unary.Vi (Number (pos 0))) (Of2 binary.Cons (Of unary.Vi (Number (pos 0))) Nil))))) ∷ (Data (Number (pos 64)) (Global name_x) (Of2 binary.Cons (Of unary.Vi (Number (pos 3))) Nil)) ∷ (Data (Number (pos 64)) (Global name_l) (Of2 binary.Cons (Of unary.Vi (Number (pos 0))) Nil)) ∷ []) }); post = (record { opened = (sort.List ∷ []); facts = ((Rel relation.Eq (Var 0 sort.Val) (Of unary.Vi (Number (pos 1)))) ∷ []); locals = []; items = ((Data (Number (pos 64)) (Global name_arr) (Of2 binary.Cons (Of unary.Vi (Number (pos 1))) (Of2 binary.Cons (Of unary.Vi (Number (pos 2))) (Of2 binary.Cons (Of unary.Vi (Number (pos 0))) (Of2 binary.Cons (Of unary.Vi (Number (pos 0))) Nil))))) ∷ (Data (Number (pos 64)) (Global name_x) (Var 1 sort.List)) ∷ (Data (Number (pos 64)) (Global name_l) (Of2 binary.Cons Undef Nil)) ∷ []) }) }) (record { temps = (name_s ∷ name_t ∷ name_i ∷ name_x1 ∷ name_d0 ∷ name_p1 ∷ name_q1 ∷ []); body = (c.Then (c.Set 0 (c.Const 2)) (c.Then (c.Set 1 (c.Const 3)) (c.Then (c.OnLock lock.Make (c.Address (root.Global name_l 1) c.Here)) (c.Then (c.OnLock lock.Release (c.Address (root.Global name_l 1) c.Here)) (c.Then (c.Set 0 (c.Binary two.Add kind.Signed (c.Binary two.Add kind.Signed (c.Const 1) (c.Const 5)) (c.Binary two.Add kind.Signed (c.Const 10) (c.Const 2)))) (c.Then (c.OnLock lock.Acquire (c.Address (root.Global name_l 1) c.Here)) (c.Then (c.OnLock lock.Free (c.Address (root.Global name_l 1) c.Here)) (c.Then (c.Return (Some (c.Binary two.Eq kind.Signed (c.Const 1) (c.Const 1)))) c.End)))))))) }) (s.Then 1 (s.Set ([]) ([])) s.NoBlock (s.Then 2 (s.Fold name_ov 0 ([]) ((Of unary.Vi (Number (pos 3))) ∷ []) ([])) s.NoBlock (s.Then 3 (s.Set ([]) ([])) s.NoBlock (s.Then 4 (s.Naming name_k1 (Global name_l)) s.NoBlock (s.Then 5 (s.MakeLock 1 (record { name = name_ov; args = ([]) }) ([]) ([])) s.NoBlock (s.Then 6 (s.Release 3 1 ([])) s.NoBlock (s.Then 7 (s.Set ([]) ([])) s.NoBlock (s.Then 8 (s.Acquire 1 ([])) s.NoBlock (s.Then 9 (s.Unfold 3 ((name_k2 ∷ []) ∷ [])) (s.WithBlock (s.Then 10 (s.FreeLock 1 2 ([]) ([])) s.NoBlock (s.Then 11 (s.Return ((Of2 binary.Cons (Named name_k2) Nil) ∷ []) ([]) ([])) s.NoBlock s.End)) s.NoBlock) s.End))))))))) ≡ (RefusedAt 11 9 5)
unfolding computing
random_638 = refl

random_639 : body_verdict (record { predicates = ((record { name = name_ov; args = ([]); cases = ((record { opened = (sort.Val ∷ []); facts = ([]); locals = []; items = ((Data (Number (pos 64)) (Global name_x) (Of2 binary.Cons (Var 0 sort.Val) Nil)) ∷ []) }) ∷ []) }) ∷ []); specs = ((record { is_void = false; name = name_main; params = ([]); vars = []; pre = (record { opened = []; facts = ([]); locals = []; items = ((Data (Number (pos 64)) (Global name_arr) (Of2 binary.Cons (Of unary.Vi (Number (pos 1))) (Of2 binary.Cons (Of unary.Vi (Number (pos 2))) (Of2 binary.Cons (Of unary.Vi (Number (pos 0))) (Of2 binary.Cons (Of unary.Vi (Number (pos 0))) Nil))))) ∷ (Data (Number (pos 64)) (Global name_x) (Of2 binary.Cons (Of unary.Vi (Number (pos 3))) Nil)) ∷ (Data (Number (pos 64)) (Global name_l) (Of2 binary.Cons (Of unary.Vi (Number (pos 0))) Nil)) ∷ []) }); post = (record { opened = (sort.List ∷ []); facts = ((Rel relation.Eq (Var 0 sort.Val) (Of unary.Vi (Number (pos 1)))) ∷ []); locals = []; items = ((Data (Number (pos 64)) (Global name_arr) (Of2 binary.Cons (Of unary.Vi (Number (pos 1))) (Of2 binary.Cons (Of unary.Vi (Number (pos 2))) (Of2 binary.Cons (Of unary.Vi (Number (pos 0))) (Of2 binary.Cons (Of unary.Vi (Number (pos 0))) Nil))))) ∷ (Data (Number (pos 64)) (Global name_x) (Var 1 sort.List)) ∷ (Data (Number (pos 64)) (Global name_l) (Of2 binary.Cons Undef Nil)) ∷ []) }) }) ∷ []) }) (record { is_void = false; name = name_main; params = ([]); vars = []; pre = (record { opened = []; facts = ([]); locals = []; items = ((Data (Number (pos 64)) (Global name_arr) (Of2 binary.Cons (Of unary.Vi (Number (pos 1))) (Of2 binary.Cons (Of unary.Vi (Number (pos 2))) (Of2 binary.Cons (Of unary.Vi (Number (pos 0))) (Of2 binary.Cons (Of unary.Vi (Number (pos 0))) Nil))))) ∷ (Data (Number (pos 64)) (Global name_x) (Of2 binary.Cons (Of unary.Vi (Number (pos 3))) Nil)) ∷ (Data (Number (pos 64)) (Global name_l) (Of2 binary.Cons (Of unary.Vi (Number (pos 0))) Nil)) ∷ []) }); post = (record { opened = (sort.List ∷ []); facts = ((Rel relation.Eq (Var 0 sort.Val) (Of unary.Vi (Number (pos 1)))) ∷ []); locals = []; items = ((Data (Number (pos 64)) (Global name_arr) (Of2 binary.Cons (Of unary.Vi (Number (pos 1))) (Of2 binary.Cons (Of unary.Vi (Number (pos 2))) (Of2 binary.Cons (Of unary.Vi (Number (pos 0))) (Of2 binary.Cons (Of unary.Vi (Number (pos 0))) Nil))))) ∷ (Data (Number (pos 64)) (Global name_x) (Var 1 sort.List)) ∷ (Data (Number (pos 64)) (Global name_l) (Of2 binary.Cons Undef Nil)) ∷ []) }) }) (record { temps = (name_s ∷ name_t ∷ name_i ∷ name_x1 ∷ name_d0 ∷ name_p1 ∷ name_q1 ∷ []); body = (c.Then (c.Set 0 (c.Const 2)) (c.Then (c.Set 1 (c.Const 3)) (c.Then (c.OnLock lock.Make (c.Address (root.Global name_l 1) c.Here)) (c.Then (c.OnLock lock.Release (c.Address (root.Global name_l 1) c.Here)) (c.Then (c.OnLock lock.Release (c.Address (root.Global name_l 1) c.Here)) (c.Then (c.Set 0 (c.Binary two.Add kind.Signed (c.Binary two.Add kind.Signed (c.Const 1) (c.Const 5)) (c.Binary two.Add kind.Signed (c.Const 10) (c.Const 2)))) (c.Then (c.OnLock lock.Acquire (c.Address (root.Global name_l 1) c.Here)) (c.Then (c.OnLock lock.Free (c.Address (root.Global name_l 1) c.Here)) (c.Then (c.Return (Some (c.Binary two.Eq kind.Signed (c.Const 1) (c.Const 1)))) c.End))))))))) }) (s.Then 1 (s.Set ([]) ([])) s.NoBlock (s.Then 2 (s.Fold name_ov 0 ([]) ((Of unary.Vi (Number (pos 3))) ∷ []) ([])) s.NoBlock (s.Then 3 (s.Set ([]) ([])) s.NoBlock (s.Then 4 (s.Naming name_k1 (Global name_l)) s.NoBlock (s.Then 5 (s.MakeLock 1 (record { name = name_ov; args = ([]) }) ([]) ([])) s.NoBlock (s.Then 6 (s.Release 3 1 ([])) s.NoBlock (s.Then 7 (s.Set ([]) ([])) s.NoBlock (s.Then 8 (s.Acquire 1 ([])) s.NoBlock (s.Then 9 (s.Unfold 3 ((name_k2 ∷ []) ∷ [])) (s.WithBlock (s.Then 10 (s.FreeLock 1 2 ([]) ([])) s.NoBlock (s.Then 11 (s.Return ((Of2 binary.Cons (Named name_k2) Nil) ∷ []) ([]) ([])) s.NoBlock s.End)) s.NoBlock) s.End))))))))) ≡ (RefusedAt 7 2 1)
unfolding computing
random_639 = refl

random_640 : body_verdict (record { predicates = ((record { name = name_ov; args = ([]); cases = ((record { opened = (sort.Val ∷ []); facts = ([]); locals = []; items = ((Data (Number (pos 64)) (Global name_x) (Of2 binary.Cons (Var 0 sort.Val) Nil)) ∷ []) }) ∷ []) }) ∷ []); specs = ((record { is_void = false; name = name_main; params = ([]); vars = []; pre = (record { opened = []; facts = ([]); locals = []; items = ((Data (Number (pos 64)) (Global name_arr) (Of2 binary.Cons (Of unary.Vi (Number (pos 1))) (Of2 binary.Cons (Of unary.Vi (Number (pos 2))) (Of2 binary.Cons (Of unary.Vi (Number (pos 0))) (Of2 binary.Cons (Of unary.Vi (Number (pos 0))) Nil))))) ∷ (Data (Number (pos 64)) (Global name_x) (Of2 binary.Cons (Of unary.Vi (Number (pos 3))) Nil)) ∷ (Data (Number (pos 64)) (Global name_l) (Of2 binary.Cons (Of unary.Vi (Number (pos 0))) Nil)) ∷ []) }); post = (record { opened = (sort.List ∷ []); facts = ((Rel relation.Eq (Var 0 sort.Val) (Of unary.Vi (Number (pos 1)))) ∷ []); locals = []; items = ((Data (Number (pos 64)) (Global name_arr) (Of2 binary.Cons (Of unary.Vi (Number (pos 1))) (Of2 binary.Cons (Of unary.Vi (Number (pos 2))) (Of2 binary.Cons (Of unary.Vi (Number (pos 0))) (Of2 binary.Cons (Of unary.Vi (Number (pos 0))) Nil))))) ∷ (Data (Number (pos 64)) (Global name_x) (Var 1 sort.List)) ∷ (Data (Number (pos 64)) (Global name_l) (Of2 binary.Cons Undef Nil)) ∷ []) }) }) ∷ []) }) (record { is_void = false; name = name_main; params = ([]); vars = []; pre = (record { opened = []; facts = ([]); locals = []; items = ((Data (Number (pos 64)) (Global name_arr) (Of2 binary.Cons (Of unary.Vi (Number (pos 1))) (Of2 binary.Cons (Of unary.Vi (Number (pos 2))) (Of2 binary.Cons (Of unary.Vi (Number (pos 0))) (Of2 binary.Cons (Of unary.Vi (Number (pos 0))) Nil))))) ∷ (Data (Number (pos 64)) (Global name_x) (Of2 binary.Cons (Of unary.Vi (Number (pos 3))) Nil)) ∷ (Data (Number (pos 64)) (Global name_l) (Of2 binary.Cons (Of unary.Vi (Number (pos 0))) Nil)) ∷ []) }); post = (record { opened = (sort.List ∷ []); facts = ((Rel relation.Eq (Var 0 sort.Val) (Of unary.Vi (Number (pos 1)))) ∷ []); locals = []; items = ((Data (Number (pos 64)) (Global name_arr) (Of2 binary.Cons (Of unary.Vi (Number (pos 1))) (Of2 binary.Cons (Of unary.Vi (Number (pos 2))) (Of2 binary.Cons (Of unary.Vi (Number (pos 0))) (Of2 binary.Cons (Of unary.Vi (Number (pos 0))) Nil))))) ∷ (Data (Number (pos 64)) (Global name_x) (Var 1 sort.List)) ∷ (Data (Number (pos 64)) (Global name_l) (Of2 binary.Cons Undef Nil)) ∷ []) }) }) (record { temps = (name_s ∷ name_t ∷ name_i ∷ name_x1 ∷ name_d0 ∷ name_p1 ∷ name_q1 ∷ []); body = (c.Then (c.Set 1 (c.Const 3)) (c.Then (c.OnLock lock.Make (c.Address (root.Global name_l 1) c.Here)) (c.Then (c.OnLock lock.Release (c.Address (root.Global name_l 1) c.Here)) (c.Then (c.Set 0 (c.Binary two.Add kind.Signed (c.Binary two.Add kind.Signed (c.Const 1) (c.Const 5)) (c.Binary two.Add kind.Signed (c.Const 10) (c.Const 2)))) (c.Then (c.OnLock lock.Acquire (c.Address (root.Global name_l 1) c.Here)) (c.Then (c.OnLock lock.Free (c.Address (root.Global name_l 1) c.Here)) (c.Then (c.Return (Some (c.Binary two.Eq kind.Signed (c.Const 1) (c.Const 1)))) c.End))))))) }) (s.Then 1 (s.Set ([]) ([])) s.NoBlock (s.Then 2 (s.Fold name_ov 0 ([]) ((Of unary.Vi (Number (pos 3))) ∷ []) ([])) s.NoBlock (s.Then 3 (s.Set ([]) ([])) s.NoBlock (s.Then 4 (s.Naming name_k1 (Global name_l)) s.NoBlock (s.Then 5 (s.MakeLock 64 (record { name = name_ov; args = ([]) }) ([]) ([])) s.NoBlock (s.Then 6 (s.Release 3 1 ([])) s.NoBlock (s.Then 7 (s.Set ([]) ([])) s.NoBlock (s.Then 8 (s.Acquire 1 ([])) s.NoBlock (s.Then 9 (s.Unfold 3 ((name_k2 ∷ []) ∷ [])) (s.WithBlock (s.Then 10 (s.FreeLock 1 2 ([]) ([])) s.NoBlock (s.Then 11 (s.Return ((Of2 binary.Cons (Named name_k2) Nil) ∷ []) ([]) ([])) s.NoBlock s.End)) s.NoBlock) s.End))))))))) ≡ (RefusedAt 3 2 1)
unfolding computing
random_640 = refl

random_641 : body_verdict (record { predicates = ([]); specs = ((record { is_void = false; name = name_main; params = ([]); vars = []; pre = (record { opened = []; facts = ([]); locals = []; items = ([]) }); post = (record { opened = []; facts = ([]); locals = []; items = ([]) }) }) ∷ []) }) (record { is_void = false; name = name_main; params = ([]); vars = []; pre = (record { opened = []; facts = ([]); locals = []; items = ([]) }); post = (record { opened = []; facts = ([]); locals = []; items = ([]) }) }) (record { temps = (name_s ∷ name_t ∷ name_i ∷ name_x1 ∷ name_d0 ∷ name_p1 ∷ name_q1 ∷ []); body = (c.Then (c.Set 0 (c.Const 2)) (c.Then (c.Set 1 (c.Const 1)) (c.Then (c.Malloc 5 3) (c.Then (c.If (c.Pointers (c.Temp 5) (c.Const 0) true) (c.Then (c.Return (Some (c.Const 0))) c.End) c.End) (c.Then (c.Store (root.Temp 5) (c.Offset 0 c.Here) (c.Const 2)) (c.Then (c.Load 1 (root.Temp 5) (c.Offset 0 c.Here)) (c.Then (c.Free (c.Temp 5)) (c.Then (c.Set 0 (c.Binary two.Eq kind.Signed (c.Const 3) (c.Const 1))) (c.Then (c.Set 0 (c.Binary two.Mul kind.Signed (c.Const 1) (c.Temp 1))) (c.Then (c.Set 0 (c.Const 2)) (c.Then (c.Return (Some (c.Temp 0))) c.End))))))))))) }) (s.Then 1 (s.Set ([]) ([])) s.NoBlock (s.Then 2 (s.Set ([]) ([])) s.NoBlock (s.Then 3 (s.Malloc name_k1 ([]) ([])) (s.WithBlock (s.Then 4 (s.If ([]) ([]) ([]) ([])) (s.WithBlock (s.Then 5 (s.Block 0 (record { opened = []; facts = ([]); locals = ((name_s, (Of unary.Vi (Number (pos 2)))) ∷ (name_t, (Of unary.Vi (Number (pos 1)))) ∷ (name_p1, (Of unary.Vi (Number (pos 0)))) ∷ []); items = ([]) }) ([]) ([])) (s.WithBlock (s.Then 6 (s.Fall ([]) ([])) s.NoBlock s.End) s.NoBlock) (s.Then 7 (s.Block 0 (record { opened = []; facts = ([]); locals = ((name_s, (Of unary.Vi (Number (pos 2)))) ∷ (name_t, (Of unary.Vi (Number (pos 1)))) ∷ (name_p1, (Of unary.Vi (Number (pos 0)))) ∷ []); items = ([]) }) ([]) ([])) (s.WithBlock (s.Then 8 (s.Fall ([]) ([])) s.NoBlock s.End) s.NoBlock) (s.Then 9 (s.Have (IsInt (Of unary.Vi (Number (pos 3)))) ([])) s.NoBlock (s.Then 10 (s.Return ([]) ([]) ([])) s.NoBlock s.End)))) (s.WithBlock (s.Then 11 (s.Absurd ([])) s.NoBlock s.End) s.NoBlock)) s.End) (s.WithBlock (s.Then 12 (s.If (0 ∷ []) ([]) ([]) ([])) (s.WithBlock (s.Then 13 (s.Cut 0 (Of2 binary.Cons Undef (Of2 binary.Cons Undef Nil)) (Of2 binary.Cons Undef Nil)) s.NoBlock (s.Then 14 (s.Glue 1 2) s.NoBlock (s.Then 15 (s.Subst name_k1) s.NoBlock (s.Then 16 (s.Absurd ([])) s.NoBlock s.End)))) (s.WithBlock (s.Then 17 (s.Have (IsPtr (Named name_k1)) ([])) s.NoBlock (s.Then 18 (s.Store 0 ([]) ([])) s.NoBlock (s.Then 19 (s.Load 0 ([]) ([])) s.NoBlock (s.Then 20 (s.Naming name_k2 (Of unary.Vi (Number (pos 2)))) s.NoBlock (s.Then 21 (s.Free 0 1 ([])) s.NoBlock (s.Then 22 (s.Set ([]) ([])) s.NoBlock (s.Then 23 (s.Set ([]) ([])) s.NoBlock (s.Then 24 (s.Pose (record { opened = (sort.Val ∷ []); facts = ((IsPtr (Named name_k1)) ∷ []); locals = ((name_s, (Var 0 sort.Val)) ∷ (name_t, (Of unary.Vi (Number (pos 2)))) ∷ (name_p1, (Named name_k1)) ∷ []); items = ([]) }) (name_k4 ∷ []) ([])) (s.WithBlock (s.Then 25 (s.Meet ((Of unary.Vi (Number (pos 2))) ∷ []) ([])) s.NoBlock s.End) s.NoBlock) (s.Then 26 (s.Set ([]) ([])) s.NoBlock (s.Then 27 (s.Return ([]) ([]) ([])) s.NoBlock s.End)))))))))) s.NoBlock)) s.End) s.NoBlock)) s.End))) ≡ Accepted
unfolding computing
random_641 = refl

random_642 : body_verdict (record { predicates = ([]); specs = ((record { is_void = false; name = name_main; params = ([]); vars = []; pre = (record { opened = []; facts = ([]); locals = []; items = ([]) }); post = (record { opened = []; facts = ([]); locals = []; items = ([]) }) }) ∷ []) }) (record { is_void = false; name = name_main; params = ([]); vars = []; pre = (record { opened = []; facts = ([]); locals = []; items = ([]) }); post = (record { opened = []; facts = ([]); locals = []; items = ([]) }) }) (record { temps = (name_s ∷ name_t ∷ name_i ∷ name_x1 ∷ name_d0 ∷ name_p1 ∷ name_q1 ∷ []); body = (c.Then (c.Set 0 (c.Const 2)) (c.Then (c.Set 1 (c.Const 1)) (c.Then (c.Malloc 5 3) (c.Then (c.If (c.Pointers (c.Temp 5) (c.Const 0) true) (c.Then (c.Return (Some (c.Const 0))) c.End) c.End) (c.Then (c.Store (root.Temp 5) (c.Offset 0 c.Here) (c.Const 2)) (c.Then (c.Load 1 (root.Temp 5) (c.Offset 0 c.Here)) (c.Then (c.Free (c.Temp 5)) (c.Then (c.Set 0 (c.Binary two.Eq kind.Signed (c.Const 3) (c.Const 1))) (c.Then (c.Set 0 (c.Binary two.Mul kind.Signed (c.Const 1) (c.Temp 1))) (c.Then (c.Set 0 (c.Const 2)) (c.Then (c.Return (Some (c.Temp 0))) c.End))))))))))) }) (s.Then 1 (s.Set ([]) ([])) s.NoBlock (s.Then 2 (s.Set ([]) ([])) s.NoBlock (s.Then 3 (s.Malloc name_k1 ([]) ([])) (s.WithBlock (s.Then 4 (s.If ([]) ([]) ([]) ([])) (s.WithBlock (s.Then 5 (s.Block 0 (record { opened = []; facts = ([]); locals = ((name_s, (Of unary.Vi (Number (pos 2)))) ∷ (name_t, (Of unary.Vi (Number (pos 1)))) ∷ (name_p1, (Of unary.Vi (Number (pos 0)))) ∷ []); items = ([]) }) ([]) ([])) (s.WithBlock (s.Then 6 (s.Fall ([]) ([])) s.NoBlock s.End) s.NoBlock) (s.Then 7 (s.Block 0 (record { opened = []; facts = ([]); locals = ((name_s, (Of unary.Vi (Number (pos 2)))) ∷ (name_t, (Of unary.Vi (Number (pos 1)))) ∷ (name_p1, (Of unary.Vi (Number (pos 31)))) ∷ []); items = ([]) }) ([]) ([])) (s.WithBlock (s.Then 8 (s.Fall ([]) ([])) s.NoBlock s.End) s.NoBlock) (s.Then 9 (s.Have (IsInt (Of unary.Vi (Number (pos 3)))) ([])) s.NoBlock (s.Then 10 (s.Return ([]) ([]) ([])) s.NoBlock s.End)))) (s.WithBlock (s.Then 11 (s.Absurd ([])) s.NoBlock s.End) s.NoBlock)) s.End) (s.WithBlock (s.Then 12 (s.If (0 ∷ []) ([]) ([]) ([])) (s.WithBlock (s.Then 13 (s.Cut 0 (Of2 binary.Cons Undef (Of2 binary.Cons Undef Nil)) (Of2 binary.Cons Undef Nil)) s.NoBlock (s.Then 14 (s.Glue 1 2) s.NoBlock (s.Then 15 (s.Subst name_k1) s.NoBlock (s.Then 16 (s.Absurd ([])) s.NoBlock s.End)))) (s.WithBlock (s.Then 17 (s.Have (IsPtr (Named name_k1)) ([])) s.NoBlock (s.Then 18 (s.Store 0 ([]) ([])) s.NoBlock (s.Then 19 (s.Load 0 ([]) ([])) s.NoBlock (s.Then 20 (s.Naming name_k2 (Of unary.Vi (Number (pos 2)))) s.NoBlock (s.Then 21 (s.Free 0 1 ([])) s.NoBlock (s.Then 22 (s.Set ([]) ([])) s.NoBlock (s.Then 23 (s.Set ([]) ([])) s.NoBlock (s.Then 24 (s.Pose (record { opened = (sort.Val ∷ []); facts = ((IsPtr (Named name_k1)) ∷ []); locals = ((name_s, (Var 0 sort.Val)) ∷ (name_t, (Of unary.Vi (Number (pos 2)))) ∷ (name_p1, (Named name_k1)) ∷ []); items = ([]) }) (name_k4 ∷ []) ([])) (s.WithBlock (s.Then 25 (s.Meet ((Of unary.Vi (Number (pos 2))) ∷ []) ([])) s.NoBlock s.End) s.NoBlock) (s.Then 26 (s.Set ([]) ([])) s.NoBlock (s.Then 27 (s.Return ([]) ([]) ([])) s.NoBlock s.End)))))))))) s.NoBlock)) s.End) s.NoBlock)) s.End))) ≡ (RefusedAt 8 10 4)
unfolding computing
random_642 = refl

random_643 : body_verdict (record { predicates = ([]); specs = ((record { is_void = false; name = name_main; params = ([]); vars = []; pre = (record { opened = []; facts = ([]); locals = []; items = ([]) }); post = (record { opened = []; facts = ([]); locals = []; items = ([]) }) }) ∷ []) }) (record { is_void = false; name = name_main; params = ([]); vars = []; pre = (record { opened = []; facts = ([]); locals = []; items = ([]) }); post = (record { opened = []; facts = ([]); locals = []; items = ([]) }) }) (record { temps = (name_s ∷ name_t ∷ name_i ∷ name_x1 ∷ name_d0 ∷ name_p1 ∷ name_q1 ∷ []); body = (c.Then (c.Set 0 (c.Const 2)) (c.Then (c.Set 1 (c.Const 1)) (c.Then (c.Malloc 5 3) (c.Then (c.If (c.Pointers (c.Temp 5) (c.Const 0) true) (c.Then (c.Return (Some (c.Const 0))) c.End) c.End) (c.Then (c.Store (root.Temp 5) (c.Offset 0 c.Here) (c.Const 2)) (c.Then (c.Load 1 (root.Temp 5) (c.Offset 0 c.Here)) (c.Then (c.Free (c.Temp 5)) (c.Then (c.Set 0 (c.Binary two.Eq kind.Signed (c.Const 3) (c.Const 1))) (c.Then (c.Set 0 (c.Binary two.Mul kind.Signed (c.Const 1) (c.Temp 1))) (c.Then (c.Set 0 (c.Const 2)) (c.Then (c.Return (Some (c.Temp 0))) c.End))))))))))) }) (s.Then 1 (s.Set ([]) ([])) s.NoBlock (s.Then 2 (s.Set ([]) ([])) s.NoBlock (s.Then 3 (s.Malloc name_k1 ([]) ([])) (s.WithBlock (s.Then 4 (s.If ([]) ([]) ([]) ([])) (s.WithBlock (s.Then 5 (s.Block 0 (record { opened = []; facts = ([]); locals = ((name_s, (Of unary.Vi (Number (pos 2)))) ∷ (name_t, (Of unary.Vi (Number (pos 1)))) ∷ (name_p1, (Of unary.Vi (Number (pos 0)))) ∷ []); items = ([]) }) ([]) ([])) (s.WithBlock (s.Then 6 (s.Fall ([]) ([])) s.NoBlock s.End) s.NoBlock) (s.Then 7 (s.Block 0 (record { opened = []; facts = ([]); locals = ((name_s, (Of unary.Vi (Number (pos 2)))) ∷ (name_t, (Of unary.Vi (Number (pos 1)))) ∷ (name_p1, (Of unary.Vi (Number (pos 0)))) ∷ []); items = ([]) }) ([]) ([])) (s.WithBlock (s.Then 8 (s.Fall ([]) ([])) s.NoBlock s.End) s.NoBlock) (s.Then 9 (s.Set ([]) ([])) s.NoBlock (s.Then 10 (s.Return ([]) ([]) ([])) s.NoBlock s.End)))) (s.WithBlock (s.Then 11 (s.Absurd ([])) s.NoBlock s.End) s.NoBlock)) s.End) (s.WithBlock (s.Then 12 (s.If (0 ∷ []) ([]) ([]) ([])) (s.WithBlock (s.Then 13 (s.Cut 0 (Of2 binary.Cons Undef (Of2 binary.Cons Undef Nil)) (Of2 binary.Cons Undef Nil)) s.NoBlock (s.Then 14 (s.Glue 1 2) s.NoBlock (s.Then 15 (s.Subst name_k1) s.NoBlock (s.Then 16 (s.Absurd ([])) s.NoBlock s.End)))) (s.WithBlock (s.Then 17 (s.Have (IsPtr (Named name_k1)) ([])) s.NoBlock (s.Then 18 (s.Store 0 ([]) ([])) s.NoBlock (s.Then 19 (s.Load 0 ([]) ([])) s.NoBlock (s.Then 20 (s.Naming name_k2 (Of unary.Vi (Number (pos 2)))) s.NoBlock (s.Then 21 (s.Free 0 1 ([])) s.NoBlock (s.Then 22 (s.Set ([]) ([])) s.NoBlock (s.Then 23 (s.Have (IsInt (Of unary.Vi (Number (pos 3)))) ([])) s.NoBlock (s.Then 24 (s.Pose (record { opened = (sort.Val ∷ []); facts = ((IsPtr (Named name_k1)) ∷ []); locals = ((name_s, (Var 0 sort.Val)) ∷ (name_t, (Of unary.Vi (Number (pos 2)))) ∷ (name_p1, (Named name_k1)) ∷ []); items = ([]) }) (name_k4 ∷ []) ([])) (s.WithBlock s.End s.NoBlock) (s.Then 25 (s.Set ([]) ([])) s.NoBlock (s.Then 26 (s.Return ([]) ([]) ([])) s.NoBlock s.End)))))))))) s.NoBlock)) s.End) s.NoBlock)) s.End))) ≡ (RefusedAt 9 2 1)
unfolding computing
random_643 = refl

random_644 : body_verdict (record { predicates = ([]); specs = ((record { is_void = false; name = name_main; params = ([]); vars = []; pre = (record { opened = []; facts = ([]); locals = []; items = ([]) }); post = (record { opened = []; facts = ([]); locals = []; items = ([]) }) }) ∷ []) }) (record { is_void = false; name = name_main; params = ([]); vars = []; pre = (record { opened = []; facts = ([]); locals = []; items = ([]) }); post = (record { opened = []; facts = ([]); locals = []; items = ([]) }) }) (record { temps = (name_s ∷ name_t ∷ name_i ∷ name_x1 ∷ name_d0 ∷ name_p1 ∷ name_q1 ∷ []); body = (c.Then (c.Set 0 (c.Const 2)) (c.Then (c.Set 1 (c.Const 1)) (c.Then (c.Malloc 5 3) (c.Then (c.If (c.Pointers (c.Temp 5) (c.Const 0) true) (c.Then (c.Return (Some (c.Const 0))) c.End) c.End) (c.Then (c.Store (root.Temp 5) (c.Offset 0 c.Here) (c.Const 2)) (c.Then (c.Load 1 (root.Temp 5) (c.Offset 0 c.Here)) (c.Then (c.Free (c.Temp 5)) (c.Then (c.Set 0 (c.Binary two.Eq kind.Signed (c.Const 3) (c.Const 1))) (c.Then (c.Set 0 (c.Binary two.Mul kind.Signed (c.Const 1) (c.Temp 1))) (c.Then (c.Set 0 (c.Const 2)) (c.Then (c.Return (Some (c.Temp 0))) c.End))))))))))) }) (s.Then 1 (s.Set ([]) ([])) s.NoBlock (s.Then 2 (s.Set ([]) ([])) s.NoBlock (s.Then 3 (s.Malloc name_k1 ([]) ([])) (s.WithBlock (s.Then 4 (s.If ([]) ([]) ([]) ([])) (s.WithBlock (s.Then 5 (s.Block 0 (record { opened = []; facts = ([]); locals = ((name_s, (Of unary.Vi (Number (pos 2)))) ∷ (name_t, (Of unary.Vi (Number (pos 1)))) ∷ (name_p1, (Of unary.Vi (Number (pos 0)))) ∷ []); items = ([]) }) ([]) ([])) (s.WithBlock (s.Then 6 (s.Fall ([]) ([])) s.NoBlock s.End) s.NoBlock) (s.Then 7 (s.Block 0 (record { opened = []; facts = ([]); locals = ((name_s, (Of unary.Vi (Number (pos 2)))) ∷ (name_t, (Of unary.Vi (Number (pos 1)))) ∷ (name_p1, (Of unary.Vi (Number (pos 0)))) ∷ []); items = ([]) }) ([]) ([])) (s.WithBlock (s.Then 8 (s.Fall ([]) ([])) s.NoBlock s.End) s.NoBlock) (s.Then 9 (s.Have (IsInt (Of unary.Vi (Number (pos 3)))) ([])) s.NoBlock (s.Then 10 (s.Return ([]) ([]) ([])) s.NoBlock s.End)))) (s.WithBlock (s.Then 11 (s.Absurd ([])) s.NoBlock s.End) s.NoBlock)) s.End) (s.WithBlock (s.Then 12 (s.If (0 ∷ []) ([]) ([]) ([])) (s.WithBlock (s.Then 13 (s.Cut 0 (Of2 binary.Cons Undef (Of2 binary.Cons Undef Nil)) (Of2 binary.Cons Undef Nil)) s.NoBlock (s.Then 14 (s.Glue 1 2) s.NoBlock (s.Then 15 (s.Subst name_k1) s.NoBlock (s.Then 16 (s.Absurd ([])) s.NoBlock s.End)))) (s.WithBlock (s.Then 17 (s.Have (IsPtr (Named name_k1)) ([])) s.NoBlock (s.Then 18 (s.Store 0 ([]) ([])) s.NoBlock (s.Then 19 (s.Load 0 ([]) ([])) s.NoBlock (s.Then 20 (s.Naming name_k2 (Of unary.Vi (Number (pos 2)))) s.NoBlock (s.Then 21 (s.Free 0 1 ([])) s.NoBlock (s.Then 22 (s.Set ([]) ([])) s.NoBlock (s.Then 23 (s.Set ([]) ([])) s.NoBlock (s.Then 24 (s.Pose (record { opened = (sort.Val ∷ []); facts = ((IsPtr (Named name_k1)) ∷ []); locals = ((name_s, (Var 0 sort.Val)) ∷ (name_t, (Of unary.Vi (Number (pos 2)))) ∷ (name_p1, (Named name_k1)) ∷ []); items = ([]) }) (name_k4 ∷ []) ([])) (s.WithBlock s.End s.NoBlock) (s.Then 25 (s.Set ([]) ([])) s.NoBlock (s.Then 26 (s.Return ([]) ([]) ([])) s.NoBlock s.End)))))))))) s.NoBlock)) s.End) s.NoBlock)) s.End))) ≡ (RefusedAt 25 0 10)
unfolding computing
random_644 = refl

random_645 : body_verdict (record { predicates = ([]); specs = ((record { is_void = false; name = name_main; params = ([]); vars = []; pre = (record { opened = []; facts = ([]); locals = []; items = ([]) }); post = (record { opened = []; facts = ([]); locals = []; items = ([]) }) }) ∷ []) }) (record { is_void = false; name = name_main; params = ([]); vars = []; pre = (record { opened = []; facts = ([]); locals = []; items = ([]) }); post = (record { opened = []; facts = ([]); locals = []; items = ([]) }) }) (record { temps = (name_s ∷ name_t ∷ name_i ∷ name_x1 ∷ name_d0 ∷ name_p1 ∷ name_q1 ∷ []); body = (c.Then (c.Set 0 (c.Const 2)) (c.Then (c.Set 1 (c.Const 1)) (c.Then (c.Malloc 5 3) (c.Then (c.If (c.Pointers (c.Temp 5) (c.Const 0) true) (c.Then (c.Return (Some (c.Const 0))) c.End) c.End) (c.Then (c.Store (root.Temp 5) (c.Offset 0 c.Here) (c.Const 2)) (c.Then (c.Load 1 (root.Temp 5) (c.Offset 0 c.Here)) (c.Then (c.Free (c.Temp 5)) (c.Then (c.Set 0 (c.Binary two.Eq kind.Signed (c.Const 3) (c.Const 1))) (c.Then (c.Set 0 (c.Binary two.Mul kind.Signed (c.Const 1) (c.Temp 1))) (c.Then (c.Set 0 (c.Const 2)) (c.Then (c.Return (Some (c.Temp 0))) c.End))))))))))) }) (s.Then 1 (s.Set ([]) ([])) s.NoBlock (s.Then 2 (s.Set ([]) ([])) s.NoBlock (s.Then 3 (s.Malloc name_k1 ([]) ([])) (s.WithBlock (s.Then 4 (s.If ([]) ([]) ([]) ([])) (s.WithBlock (s.Then 5 (s.Block 0 (record { opened = []; facts = ([]); locals = ((name_s, (Of unary.Vi (Number (pos 2)))) ∷ (name_t, (Of unary.Vi (Number (pos 1)))) ∷ (name_p1, (Of unary.Vi (Number (pos 0)))) ∷ []); items = ([]) }) ([]) ([])) (s.WithBlock (s.Then 6 (s.Fall ([]) ([])) s.NoBlock s.End) s.NoBlock) (s.Then 7 (s.Block 0 (record { opened = []; facts = ([]); locals = ((name_s, (Of unary.Vi (Number (pos 2)))) ∷ (name_t, (Of unary.Vi (Number (pos 1)))) ∷ (name_p1, (Of unary.Vi (Number (pos 0)))) ∷ []); items = ([]) }) ([]) ([])) (s.WithBlock (s.Then 8 (s.Fall ([]) ([])) s.NoBlock s.End) s.NoBlock) (s.Then 9 (s.Have (IsInt (Of unary.Vi (Number (pos 3)))) ([])) s.NoBlock (s.Then 10 (s.Return ([]) ([]) ([])) s.NoBlock s.End)))) (s.WithBlock (s.Then 11 (s.Absurd ([])) s.NoBlock s.End) s.NoBlock)) s.End) (s.WithBlock (s.Then 12 (s.If (0 ∷ []) ([]) ([]) ([])) (s.WithBlock (s.Then 13 (s.Cut 0 (Of2 binary.Cons Undef (Of2 binary.Cons Undef Nil)) (Of2 binary.Cons Undef Nil)) s.NoBlock (s.Then 14 (s.Glue 1 2) s.NoBlock (s.Then 15 (s.Subst name_k1) s.NoBlock (s.Then 16 (s.Absurd ([])) s.NoBlock s.End)))) (s.WithBlock (s.Then 17 (s.Have (IsPtr (Named name_k1)) ([])) s.NoBlock (s.Then 18 (s.Store 0 ([]) ([])) s.NoBlock (s.Then 19 (s.Load 0 ([]) ([])) s.NoBlock (s.Then 20 (s.Naming name_k2 (Of unary.Vi (Number (pos 2)))) s.NoBlock (s.Then 21 (s.Free 0 1 ([])) s.NoBlock (s.Then 22 (s.Set ([]) ([])) s.NoBlock (s.Then 23 (s.Set ([]) ([])) s.NoBlock (s.Then 24 (s.Pose (record { opened = (sort.Val ∷ []); facts = ((IsPtr (Named name_k1)) ∷ []); locals = ((name_s, (Var 0 sort.Val)) ∷ (name_t, (Of unary.Vi (Number (pos 2)))) ∷ (name_p1, (Named name_k1)) ∷ []); items = ([]) }) (name_k4 ∷ []) ([])) (s.WithBlock (s.Then 25 (s.Meet ((Of unary.Vi (Number (pos 2))) ∷ []) ([])) s.NoBlock s.End) s.NoBlock) (s.Then 26 (s.Set ([]) ([])) s.NoBlock (s.Then 27 (s.Fold name_E 0 ([]) ([]) ([])) s.NoBlock s.End)))))))))) s.NoBlock)) s.End) s.NoBlock)) s.End))) ≡ (RefusedAt 27 21 7)
unfolding computing
random_645 = refl

random_646 : body_verdict (record { predicates = ([]); specs = ((record { is_void = false; name = name_f; params = (name_u0 ∷ []); vars = ((name_b0, sort.Int) ∷ []); pre = (record { opened = []; facts = ([]); locals = ((name_u0, (Of unary.Vi (Var 0 sort.Int))) ∷ []); items = ([]) }); post = (record { opened = []; facts = ((Rel relation.Eq (Var 1 sort.Val) (Of unary.Vi (Number (pos 0)))) ∷ []); locals = []; items = ([]) }) }) ∷ (record { is_void = false; name = name_main; params = ([]); vars = []; pre = (record { opened = []; facts = ([]); locals = []; items = ([]) }); post = (record { opened = []; facts = ((Rel relation.Eq (Var 0 sort.Val) (Of unary.Vi (Number (pos 0)))) ∷ []); locals = []; items = ([]) }) }) ∷ []) }) (record { is_void = false; name = name_f; params = (name_u0 ∷ []); vars = ((name_b0, sort.Int) ∷ []); pre = (record { opened = []; facts = ([]); locals = ((name_u0, (Of unary.Vi (Var 0 sort.Int))) ∷ []); items = ([]) }); post = (record { opened = []; facts = ((Rel relation.Eq (Var 1 sort.Val) (Of unary.Vi (Number (pos 0)))) ∷ []); locals = []; items = ([]) }) }) (record { temps = (name_u0 ∷ name_s ∷ name_t ∷ name_i ∷ name_x1 ∷ name_d0 ∷ name_p1 ∷ name_q1 ∷ []); body = (c.Then (c.Set 1 (c.Const 3)) (c.Then (c.Set 2 (c.Const 0)) (c.Then (c.Set 1 (c.Temp 1)) (c.Then (c.Set 1 (c.Temp 1)) (c.Then (c.Set 1 (c.Binary two.Add kind.Signed (c.Binary two.Eq kind.Signed (c.Temp 2) (c.Const 1)) (c.Const 1))) (c.Then (c.Return (Some (c.Const 0))) c.End)))))) }) (s.Then 1 (s.Set ([]) ([])) s.NoBlock (s.Then 2 (s.Set ([]) ([])) s.NoBlock (s.Then 3 (s.Set ([]) ([])) s.NoBlock (s.Then 4 (s.Set ([]) ([])) s.NoBlock (s.Then 5 (s.Set ([]) ([])) s.NoBlock (s.Then 6 (s.Return ([]) ([]) ([])) s.NoBlock s.End)))))) ≡ Accepted
unfolding computing
random_646 = refl

random_647 : body_verdict (record { predicates = ([]); specs = ((record { is_void = false; name = name_f; params = (name_u0 ∷ []); vars = ((name_b0, sort.Int) ∷ []); pre = (record { opened = []; facts = ([]); locals = ((name_u0, (Of unary.Vi (Var 0 sort.Int))) ∷ []); items = ([]) }); post = (record { opened = []; facts = ((Rel relation.Eq (Var 1 sort.Val) (Of unary.Vi (Number (pos 0)))) ∷ []); locals = []; items = ([]) }) }) ∷ (record { is_void = false; name = name_main; params = ([]); vars = []; pre = (record { opened = []; facts = ([]); locals = []; items = ([]) }); post = (record { opened = []; facts = ((Rel relation.Eq (Var 0 sort.Val) (Of unary.Vi (Number (pos 0)))) ∷ []); locals = []; items = ([]) }) }) ∷ []) }) (record { is_void = false; name = name_main; params = ([]); vars = []; pre = (record { opened = []; facts = ([]); locals = []; items = ([]) }); post = (record { opened = []; facts = ((Rel relation.Eq (Var 0 sort.Val) (Of unary.Vi (Number (pos 0)))) ∷ []); locals = []; items = ([]) }) }) (record { temps = ([]); body = (c.Then (c.Return (Some (c.Const 0))) c.End) }) (s.Then 1 (s.Return ([]) ([]) ([])) s.NoBlock s.End) ≡ Accepted
unfolding computing
random_647 = refl

random_648 : body_verdict (record { predicates = ([]); specs = ((record { is_void = false; name = name_f; params = (name_u0 ∷ []); vars = ((name_b0, sort.Int) ∷ []); pre = (record { opened = []; facts = ([]); locals = ((name_u0, (Of unary.Vi (Var 0 sort.Int))) ∷ []); items = ([]) }); post = (record { opened = []; facts = ((Rel relation.Eq (Var 1 sort.Val) (Of unary.Vi (Number (pos 0)))) ∷ []); locals = []; items = ([]) }) }) ∷ (record { is_void = false; name = name_main; params = ([]); vars = []; pre = (record { opened = []; facts = ([]); locals = []; items = ([]) }); post = (record { opened = []; facts = ((Rel relation.Eq (Var 0 sort.Val) (Of unary.Vi (Number (pos 0)))) ∷ []); locals = []; items = ([]) }) }) ∷ []) }) (record { is_void = false; name = name_f; params = (name_u0 ∷ []); vars = ((name_b0, sort.Int) ∷ []); pre = (record { opened = []; facts = ([]); locals = ((name_u0, (Of unary.Vi (Var 0 sort.Int))) ∷ []); items = ([]) }); post = (record { opened = []; facts = ((Rel relation.Eq (Var 1 sort.Val) (Of unary.Vi (Number (pos 0)))) ∷ []); locals = []; items = ([]) }) }) (record { temps = (name_u0 ∷ name_s ∷ name_t ∷ name_i ∷ name_x1 ∷ name_d0 ∷ name_p1 ∷ name_q1 ∷ []); body = (c.Then (c.Set 1 (c.Const 3)) (c.Then (c.Set 2 (c.Const 0)) (c.Then (c.Set 1 (c.Temp 1)) (c.Then (c.Set 1 (c.Temp 1)) (c.Then (c.Set 1 (c.Binary two.Add kind.Signed (c.Binary two.Eq kind.Signed (c.Temp 2) (c.Const 1)) (c.Const 1))) (c.Then (c.Return (Some (c.Const 0))) c.End)))))) }) (s.Then 1 (s.Set ([]) ([])) s.NoBlock (s.Then 2 (s.Set ([]) ([])) s.NoBlock (s.Then 3 (s.Set ([]) ([])) s.NoBlock (s.Then 4 (s.Set ([]) ([])) s.NoBlock (s.Then 5 (s.Set ([]) ([])) s.NoBlock (s.Then 6 (s.Set ([]) ([])) s.NoBlock (s.Then 7 (s.Return ([]) ([]) ([])) s.NoBlock s.End))))))) ≡ (RefusedAt 6 2 1)
unfolding computing
random_648 = refl

random_649 : body_verdict (record { predicates = ([]); specs = ((record { is_void = false; name = name_f; params = (name_u0 ∷ []); vars = ((name_b0, sort.Int) ∷ []); pre = (record { opened = []; facts = ([]); locals = ((name_u0, (Of unary.Vi (Var 0 sort.Int))) ∷ []); items = ([]) }); post = (record { opened = []; facts = ((Rel relation.Eq (Var 1 sort.Val) (Of unary.Vi (Number (pos 0)))) ∷ []); locals = []; items = ([]) }) }) ∷ (record { is_void = false; name = name_main; params = ([]); vars = []; pre = (record { opened = []; facts = ([]); locals = []; items = ([]) }); post = (record { opened = []; facts = ((Rel relation.Eq (Var 0 sort.Val) (Of unary.Vi (Number (pos 0)))) ∷ []); locals = []; items = ([]) }) }) ∷ []) }) (record { is_void = false; name = name_f; params = (name_u0 ∷ []); vars = ((name_b0, sort.Int) ∷ []); pre = (record { opened = []; facts = ([]); locals = ((name_u0, (Of unary.Vi (Var 0 sort.Int))) ∷ []); items = ([]) }); post = (record { opened = []; facts = ((Rel relation.Eq (Var 1 sort.Val) (Of unary.Vi (Number (pos 0)))) ∷ []); locals = []; items = ([]) }) }) (record { temps = (name_u0 ∷ name_s ∷ name_t ∷ name_i ∷ name_x1 ∷ name_d0 ∷ name_p1 ∷ name_q1 ∷ []); body = (c.Then (c.Set 1 (c.Const 3)) (c.Then (c.Set 2 (c.Const 0)) (c.Then (c.Set 1 (c.Temp 1)) (c.Then (c.Set 1 (c.Temp 1)) (c.Then (c.Set 1 (c.Binary two.Add kind.Signed (c.Binary two.Eq kind.Signed (c.Temp 2) (c.Const 1)) (c.Const 1))) (c.Then (c.Return (Some (c.Const 0))) c.End)))))) }) (s.Then 1 (s.Set ([]) ([])) s.NoBlock (s.Then 2 (s.Set ([]) ([])) s.NoBlock (s.Then 3 (s.Set ([]) ([])) s.NoBlock (s.Then 4 (s.Set ([]) ([])) s.NoBlock (s.Then 5 (s.Set ([]) ([])) s.NoBlock (s.Then 6 (s.Forget (forgotten.Prop 0)) s.NoBlock s.End)))))) ≡ (RefusedAt 6 36 1)
unfolding computing
random_649 = refl

random_650 : body_verdict (record { predicates = ([]); specs = ((record { is_void = false; name = name_f; params = (name_u0 ∷ []); vars = ((name_b0, sort.Int) ∷ []); pre = (record { opened = []; facts = ([]); locals = ((name_u0, (Of unary.Vi (Var 0 sort.Int))) ∷ []); items = ([]) }); post = (record { opened = []; facts = ((Rel relation.Eq (Var 1 sort.Val) (Of unary.Vi (Number (pos 0)))) ∷ []); locals = []; items = ([]) }) }) ∷ (record { is_void = false; name = name_main; params = ([]); vars = []; pre = (record { opened = []; facts = ([]); locals = []; items = ([]) }); post = (record { opened = []; facts = ((Rel relation.Eq (Var 0 sort.Val) (Of unary.Vi (Number (pos 0)))) ∷ []); locals = []; items = ([]) }) }) ∷ []) }) (record { is_void = false; name = name_f; params = (name_u0 ∷ []); vars = ((name_b0, sort.Int) ∷ []); pre = (record { opened = []; facts = ([]); locals = ((name_u0, (Of unary.Vi (Var 0 sort.Int))) ∷ []); items = ([]) }); post = (record { opened = []; facts = ((Rel relation.Eq (Var 1 sort.Val) (Of unary.Vi (Number (pos 0)))) ∷ []); locals = []; items = ([]) }) }) (record { temps = (name_u0 ∷ name_s ∷ name_t ∷ name_i ∷ name_x1 ∷ name_d0 ∷ name_p1 ∷ name_q1 ∷ []); body = (c.Then (c.Set 1 (c.Const 3)) (c.Then (c.Set 2 (c.Const 0)) (c.Then (c.Set 1 (c.Temp 1)) (c.Then (c.Set 1 (c.Temp 1)) (c.Then (c.Set 1 (c.Binary two.Add kind.Signed (c.Binary two.Eq kind.Signed (c.Temp 2) (c.Const 1)) (c.Const 1))) (c.Then (c.Return (Some (c.Const 0))) c.End)))))) }) (s.Then 1 (s.Set ([]) ([])) s.NoBlock (s.Then 2 (s.Set ([]) ([])) s.NoBlock (s.Then 3 (s.Set ([]) ([])) s.NoBlock (s.Then 4 (s.Set ([]) ([])) s.NoBlock (s.Then 5 (s.Return ([]) ([]) ([])) s.NoBlock s.End))))) ≡ (RefusedAt 5 9 1)
unfolding computing
random_650 = refl

random_651 : body_verdict (record { predicates = ([]); specs = ((record { is_void = false; name = name_f; params = (name_u0 ∷ []); vars = ((name_b0, sort.Int) ∷ []); pre = (record { opened = []; facts = ([]); locals = ((name_u0, (Of unary.Vi (Var 0 sort.Int))) ∷ []); items = ([]) }); post = (record { opened = []; facts = ((Rel relation.Eq (Var 1 sort.Val) (Of unary.Vi (Number (pos 0)))) ∷ []); locals = []; items = ([]) }) }) ∷ (record { is_void = false; name = name_main; params = ([]); vars = []; pre = (record { opened = []; facts = ([]); locals = []; items = ([]) }); post = (record { opened = []; facts = ((Rel relation.Eq (Var 0 sort.Val) (Of unary.Vi (Number (pos 0)))) ∷ []); locals = []; items = ([]) }) }) ∷ []) }) (record { is_void = false; name = name_f; params = (name_u0 ∷ []); vars = ((name_b0, sort.Int) ∷ []); pre = (record { opened = []; facts = ([]); locals = ((name_u0, (Of unary.Vi (Var 0 sort.Int))) ∷ []); items = ([]) }); post = (record { opened = []; facts = ((Rel relation.Eq (Var 1 sort.Val) (Of unary.Vi (Number (pos 0)))) ∷ []); locals = []; items = ([]) }) }) (record { temps = (name_u0 ∷ name_s ∷ name_t ∷ name_i ∷ name_x1 ∷ name_d0 ∷ name_p1 ∷ name_q1 ∷ []); body = (c.Then (c.Set 1 (c.Const 3)) (c.Then (c.Set 2 (c.Const 0)) (c.Then (c.Set 1 (c.Temp 1)) (c.Then (c.Set 1 (c.Temp 1)) (c.Then (c.Set 1 (c.Binary two.Add kind.Signed (c.Binary two.Eq kind.Signed (c.Temp 2) (c.Const 1)) (c.Const 1))) (c.Then (c.Return (Some (c.Const 0))) c.End)))))) }) (s.Then 1 (s.Set ([]) ([])) s.NoBlock (s.Then 2 (s.Set ([]) ([])) s.NoBlock (s.Then 3 (s.Store 0 ([]) ([])) s.NoBlock (s.Then 4 (s.Set ([]) ([])) s.NoBlock (s.Then 5 (s.Set ([]) ([])) s.NoBlock (s.Then 6 (s.Set ([]) ([])) s.NoBlock (s.Then 7 (s.Return ([]) ([]) ([])) s.NoBlock s.End))))))) ≡ (RefusedAt 3 4 1)
unfolding computing
random_651 = refl

random_652 : body_verdict (record { predicates = ([]); specs = ((record { is_void = false; name = name_f; params = (name_u0 ∷ []); vars = ((name_b0, sort.Int) ∷ []); pre = (record { opened = []; facts = ([]); locals = ((name_u0, (Of unary.Vi (Var 0 sort.Int))) ∷ []); items = ([]) }); post = (record { opened = []; facts = ((Rel relation.Eq (Var 1 sort.Val) (Of unary.Vi (Number (pos 0)))) ∷ []); locals = []; items = ([]) }) }) ∷ (record { is_void = false; name = name_main; params = ([]); vars = []; pre = (record { opened = []; facts = ([]); locals = []; items = ([]) }); post = (record { opened = []; facts = ((Rel relation.Eq (Var 0 sort.Val) (Of unary.Vi (Number (pos 0)))) ∷ []); locals = []; items = ([]) }) }) ∷ []) }) (record { is_void = false; name = name_main; params = ([]); vars = []; pre = (record { opened = []; facts = ([]); locals = []; items = ([]) }); post = (record { opened = []; facts = ((Rel relation.Eq (Var 0 sort.Val) (Of unary.Vi (Number (pos 0)))) ∷ []); locals = []; items = ([]) }) }) (record { temps = ([]); body = (c.Then (c.Return (Some (c.Const 0))) c.End) }) (s.Then 1 (s.Law name_zz ([]) ([])) s.NoBlock (s.Then 2 (s.Return ([]) ([]) ([])) s.NoBlock s.End)) ≡ (RefusedAt 1 26 1)
unfolding computing
random_652 = refl

random_653 : body_verdict (record { predicates = ([]); specs = ((record { is_void = false; name = name_f; params = (name_n0 ∷ []); vars = ((name_a0, sort.Int) ∷ []); pre = (record { opened = []; facts = ((Rel relation.Le (Number (pos 1)) (Var 0 sort.Int)) ∷ (Rel relation.Le (Var 0 sort.Int) (Number (pos 1000))) ∷ []); locals = ((name_n0, (Of unary.Vi (Var 0 sort.Int))) ∷ []); items = ([]) }); post = (record { opened = []; facts = ((Rel relation.Eq (Var 1 sort.Val) (Of unary.Vi (Number (pos 1)))) ∷ []); locals = []; items = ([]) }) }) ∷ (record { is_void = false; name = name_main; params = ([]); vars = []; pre = (record { opened = []; facts = ([]); locals = []; items = ([]) }); post = (record { opened = []; facts = ((Rel relation.Eq (Var 0 sort.Val) (Of unary.Vi (Number (pos 0)))) ∷ []); locals = []; items = ([]) }) }) ∷ []) }) (record { is_void = false; name = name_f; params = (name_n0 ∷ []); vars = ((name_a0, sort.Int) ∷ []); pre = (record { opened = []; facts = ((Rel relation.Le (Number (pos 1)) (Var 0 sort.Int)) ∷ (Rel relation.Le (Var 0 sort.Int) (Number (pos 1000))) ∷ []); locals = ((name_n0, (Of unary.Vi (Var 0 sort.Int))) ∷ []); items = ([]) }); post = (record { opened = []; facts = ((Rel relation.Eq (Var 1 sort.Val) (Of unary.Vi (Number (pos 1)))) ∷ []); locals = []; items = ([]) }) }) (record { temps = (name_n0 ∷ name_s ∷ name_t ∷ name_i ∷ name_x1 ∷ name_d0 ∷ name_p1 ∷ name_q1 ∷ []); body = (c.Then (c.Set 1 (c.Const 3)) (c.Then (c.Set 2 (c.Const 3)) (c.Then (c.Set 2 (c.Binary two.Add kind.Signed (c.Temp 2) (c.Const 1))) (c.Then (c.Set 1 (c.Const 1)) (c.Then (c.Set 1 (c.Temp 1)) (c.Then (c.Return (Some (c.Temp 1))) c.End)))))) }) (s.Then 1 (s.Set ([]) ([])) s.NoBlock (s.Then 2 (s.Set ([]) ([])) s.NoBlock (s.Then 3 (s.Set ([]) ([])) s.NoBlock (s.Then 4 (s.Set ([]) ([])) s.NoBlock (s.Then 5 (s.Set ([]) ([])) s.NoBlock (s.Then 6 (s.Return ([]) ([]) ([])) s.NoBlock s.End)))))) ≡ Accepted
unfolding computing
random_653 = refl

random_654 : body_verdict (record { predicates = ([]); specs = ((record { is_void = false; name = name_f; params = (name_n0 ∷ []); vars = ((name_a0, sort.Int) ∷ []); pre = (record { opened = []; facts = ((Rel relation.Le (Number (pos 1)) (Var 0 sort.Int)) ∷ (Rel relation.Le (Var 0 sort.Int) (Number (pos 1000))) ∷ []); locals = ((name_n0, (Of unary.Vi (Var 0 sort.Int))) ∷ []); items = ([]) }); post = (record { opened = []; facts = ((Rel relation.Eq (Var 1 sort.Val) (Of unary.Vi (Number (pos 1)))) ∷ []); locals = []; items = ([]) }) }) ∷ (record { is_void = false; name = name_main; params = ([]); vars = []; pre = (record { opened = []; facts = ([]); locals = []; items = ([]) }); post = (record { opened = []; facts = ((Rel relation.Eq (Var 0 sort.Val) (Of unary.Vi (Number (pos 0)))) ∷ []); locals = []; items = ([]) }) }) ∷ []) }) (record { is_void = false; name = name_main; params = ([]); vars = []; pre = (record { opened = []; facts = ([]); locals = []; items = ([]) }); post = (record { opened = []; facts = ((Rel relation.Eq (Var 0 sort.Val) (Of unary.Vi (Number (pos 0)))) ∷ []); locals = []; items = ([]) }) }) (record { temps = ([]); body = (c.Then (c.Return (Some (c.Const 0))) c.End) }) (s.Then 1 (s.Return ([]) ([]) ([])) s.NoBlock s.End) ≡ Accepted
unfolding computing
random_654 = refl

random_655 : body_verdict (record { predicates = ([]); specs = ((record { is_void = false; name = name_f; params = (name_n0 ∷ []); vars = ((name_a0, sort.Int) ∷ []); pre = (record { opened = []; facts = ((Rel relation.Le (Number (pos 1)) (Var 0 sort.Int)) ∷ (Rel relation.Le (Var 0 sort.Int) (Number (pos 1000))) ∷ []); locals = ((name_n0, (Of unary.Vi (Var 0 sort.Int))) ∷ []); items = ([]) }); post = (record { opened = []; facts = ((Rel relation.Eq (Var 1 sort.Val) (Of unary.Vi (Number (pos 1)))) ∷ []); locals = []; items = ([]) }) }) ∷ (record { is_void = false; name = name_main; params = ([]); vars = []; pre = (record { opened = []; facts = ([]); locals = []; items = ([]) }); post = (record { opened = []; facts = ((Rel relation.Eq (Var 0 sort.Val) (Of unary.Vi (Number (pos 0)))) ∷ []); locals = []; items = ([]) }) }) ∷ []) }) (record { is_void = false; name = name_f; params = (name_n0 ∷ []); vars = ((name_a0, sort.Int) ∷ []); pre = (record { opened = []; facts = ((Rel relation.Le (Number (pos 1)) (Var 0 sort.Int)) ∷ (Rel relation.Le (Var 0 sort.Int) (Number (pos 1000))) ∷ []); locals = ((name_n0, (Of unary.Vi (Var 0 sort.Int))) ∷ []); items = ([]) }); post = (record { opened = []; facts = ((Rel relation.Eq (Var 1 sort.Val) (Of unary.Vi (Number (pos 1)))) ∷ []); locals = []; items = ([]) }) }) (record { temps = (name_n0 ∷ name_s ∷ name_t ∷ name_i ∷ name_x1 ∷ name_d0 ∷ name_p1 ∷ name_q1 ∷ []); body = (c.Then (c.Set 1 (c.Const 3)) (c.Then (c.Set 2 (c.Const 3)) (c.Then (c.Set 2 (c.Binary two.Add kind.Signed (c.Temp 2) (c.Const 1))) (c.Then (c.Set 1 (c.Const 1)) (c.Then (c.Set 1 (c.Temp 1)) (c.Then (c.Return (Some (c.Temp 1))) c.End)))))) }) (s.Then 1 (s.Absurd ([])) s.NoBlock (s.Then 2 (s.Set ([]) ([])) s.NoBlock (s.Then 3 (s.Set ([]) ([])) s.NoBlock (s.Then 4 (s.Set ([]) ([])) s.NoBlock (s.Then 5 (s.Set ([]) ([])) s.NoBlock (s.Then 6 (s.Set ([]) ([])) s.NoBlock (s.Then 7 (s.Set ([]) ([])) s.NoBlock (s.Then 8 (s.Return ([]) ([]) ([])) s.NoBlock s.End)))))))) ≡ (RefusedAt 1 24 3)
unfolding computing
random_655 = refl

random_656 : body_verdict (record { predicates = ([]); specs = ((record { is_void = false; name = name_f; params = (name_n0 ∷ []); vars = ((name_a0, sort.Int) ∷ []); pre = (record { opened = []; facts = ((Rel relation.Le (Number (pos 1)) (Var 0 sort.Int)) ∷ (Rel relation.Le (Var 0 sort.Int) (Number (pos 1000))) ∷ []); locals = ((name_n0, (Of unary.Vi (Var 0 sort.Int))) ∷ []); items = ([]) }); post = (record { opened = []; facts = ((Rel relation.Eq (Var 1 sort.Val) (Of unary.Vi (Number (pos 1)))) ∷ []); locals = []; items = ([]) }) }) ∷ (record { is_void = false; name = name_main; params = ([]); vars = []; pre = (record { opened = []; facts = ([]); locals = []; items = ([]) }); post = (record { opened = []; facts = ((Rel relation.Eq (Var 0 sort.Val) (Of unary.Vi (Number (pos 0)))) ∷ []); locals = []; items = ([]) }) }) ∷ []) }) (record { is_void = false; name = name_f; params = (name_n0 ∷ []); vars = ((name_a0, sort.Int) ∷ []); pre = (record { opened = []; facts = ((Rel relation.Le (Number (pos 1)) (Var 0 sort.Int)) ∷ (Rel relation.Le (Var 0 sort.Int) (Number (pos 1000))) ∷ []); locals = ((name_n0, (Of unary.Vi (Var 0 sort.Int))) ∷ []); items = ([]) }); post = (record { opened = []; facts = ((Rel relation.Eq (Var 1 sort.Val) (Of unary.Vi (Number (pos 1)))) ∷ []); locals = []; items = ([]) }) }) (record { temps = (name_n0 ∷ name_s ∷ name_t ∷ name_i ∷ name_x1 ∷ name_d0 ∷ name_p1 ∷ name_q1 ∷ []); body = (c.Then (c.Set 1 (c.Const 3)) (c.Then (c.Set 2 (c.Const 3)) (c.Then (c.Set 2 (c.Binary two.Add kind.Signed (c.Temp 2) (c.Const 1))) (c.Then (c.Set 1 (c.Const 1)) (c.Then (c.Set 1 (c.Temp 1)) (c.Then (c.Return (Some (c.Temp 1))) c.End)))))) }) (s.Then 1 (s.Set ([]) ([])) s.NoBlock (s.Then 2 (s.Set ([]) ([])) s.NoBlock (s.Then 3 (s.Set ([]) ([])) s.NoBlock (s.Then 4 (s.Set ([]) ([])) s.NoBlock (s.Then 5 (s.Set ([]) ([])) s.NoBlock (s.Then 6 (s.Set ([]) ([])) s.NoBlock (s.Then 7 (s.Return ([]) ([]) ([])) s.NoBlock s.End))))))) ≡ (RefusedAt 6 2 1)
unfolding computing
random_656 = refl

random_657 : body_verdict (record { predicates = ([]); specs = ((record { is_void = false; name = name_f; params = (name_n0 ∷ []); vars = ((name_a0, sort.Int) ∷ []); pre = (record { opened = []; facts = ((Rel relation.Le (Number (pos 1)) (Var 0 sort.Int)) ∷ (Rel relation.Le (Var 0 sort.Int) (Number (pos 1000))) ∷ []); locals = ((name_n0, (Of unary.Vi (Var 0 sort.Int))) ∷ []); items = ([]) }); post = (record { opened = []; facts = ((Rel relation.Eq (Var 1 sort.Val) (Of unary.Vi (Number (pos 1)))) ∷ []); locals = []; items = ([]) }) }) ∷ (record { is_void = false; name = name_main; params = ([]); vars = []; pre = (record { opened = []; facts = ([]); locals = []; items = ([]) }); post = (record { opened = []; facts = ((Rel relation.Eq (Var 0 sort.Val) (Of unary.Vi (Number (pos 0)))) ∷ []); locals = []; items = ([]) }) }) ∷ []) }) (record { is_void = false; name = name_f; params = (name_n0 ∷ []); vars = ((name_a0, sort.Int) ∷ []); pre = (record { opened = []; facts = ((Rel relation.Le (Number (pos 1)) (Var 0 sort.Int)) ∷ (Rel relation.Le (Var 0 sort.Int) (Number (pos 1000))) ∷ []); locals = ((name_n0, (Of unary.Vi (Var 0 sort.Int))) ∷ []); items = ([]) }); post = (record { opened = []; facts = ((Rel relation.Eq (Var 1 sort.Val) (Of unary.Vi (Number (pos 1)))) ∷ []); locals = []; items = ([]) }) }) (record { temps = (name_n0 ∷ name_s ∷ name_t ∷ name_i ∷ name_x1 ∷ name_d0 ∷ name_p1 ∷ name_q1 ∷ []); body = (c.Then (c.Set 1 (c.Const 3)) (c.Then (c.Set 2 (c.Const 3)) (c.Then (c.Set 2 (c.Binary two.Add kind.Signed (c.Temp 2) (c.Const 1))) (c.Then (c.Set 1 (c.Const 1)) (c.Then (c.Set 1 (c.Temp 1)) (c.Then (c.Return (Some (c.Temp 1))) c.End)))))) }) (s.Then 1 (s.Set ([]) ([])) s.NoBlock (s.Then 2 (s.Set ([]) ([])) s.NoBlock (s.Then 3 (s.Set ([]) ([])) s.NoBlock (s.Then 4 (s.Set ([]) ([])) s.NoBlock (s.Then 5 (s.Return ([]) ([]) ([])) s.NoBlock s.End))))) ≡ (RefusedAt 5 9 1)
unfolding computing
random_657 = refl

random_658 : body_verdict (record { predicates = ([]); specs = ((record { is_void = false; name = name_f; params = (name_n0 ∷ []); vars = ((name_a0, sort.Int) ∷ []); pre = (record { opened = []; facts = ((Rel relation.Le (Number (pos 1)) (Var 0 sort.Int)) ∷ (Rel relation.Le (Var 0 sort.Int) (Number (pos 1000))) ∷ []); locals = ((name_n0, (Of unary.Vi (Var 0 sort.Int))) ∷ []); items = ([]) }); post = (record { opened = []; facts = ((Rel relation.Eq (Var 1 sort.Val) (Of unary.Vi (Number (pos 1)))) ∷ []); locals = []; items = ([]) }) }) ∷ (record { is_void = false; name = name_main; params = ([]); vars = []; pre = (record { opened = []; facts = ([]); locals = []; items = ([]) }); post = (record { opened = []; facts = ((Rel relation.Eq (Var 0 sort.Val) (Of unary.Vi (Number (pos 0)))) ∷ []); locals = []; items = ([]) }) }) ∷ []) }) (record { is_void = false; name = name_f; params = (name_n0 ∷ []); vars = ((name_a0, sort.Int) ∷ []); pre = (record { opened = []; facts = ((Rel relation.Le (Number (pos 1)) (Var 0 sort.Int)) ∷ (Rel relation.Le (Var 0 sort.Int) (Number (pos 1000))) ∷ []); locals = ((name_n0, (Of unary.Vi (Var 0 sort.Int))) ∷ []); items = ([]) }); post = (record { opened = []; facts = ((Rel relation.Eq (Var 1 sort.Val) (Of unary.Vi (Number (pos 1)))) ∷ []); locals = []; items = ([]) }) }) (record { temps = (name_n0 ∷ name_s ∷ name_t ∷ name_i ∷ name_x1 ∷ name_d0 ∷ name_p1 ∷ name_q1 ∷ []); body = (c.Then (c.Set 1 (c.Const 3)) (c.Then (c.Set 2 (c.Const 3)) (c.Then (c.Set 2 (c.Binary two.Add kind.Signed (c.Temp 2) (c.Const 1))) (c.Then (c.Set 1 (c.Const 1)) (c.Then (c.Set 1 (c.Temp 1)) (c.Then (c.Return (Some (c.Temp 1))) c.End)))))) }) (s.Then 1 (s.Set ([]) ([])) s.NoBlock (s.Then 2 (s.Set ([]) ([])) s.NoBlock (s.Then 3 (s.Set ([]) ([])) s.NoBlock (s.Then 4 (s.Set ([]) ([])) s.NoBlock (s.Then 5 (s.Set ([]) ([])) s.NoBlock (s.Then 6 (s.Return ([]) ([]) ([])) s.NoBlock (s.Then 7 (s.Return ([]) ([]) ([])) s.NoBlock s.End))))))) ≡ (RefusedAt 7 0 11)
unfolding computing
random_658 = refl

random_659 : body_verdict (record { predicates = ([]); specs = ((record { is_void = false; name = name_f; params = (name_n0 ∷ []); vars = ((name_a0, sort.Int) ∷ []); pre = (record { opened = []; facts = ((Rel relation.Le (Number (pos 1)) (Var 0 sort.Int)) ∷ (Rel relation.Le (Var 0 sort.Int) (Number (pos 1000))) ∷ []); locals = ((name_n0, (Of unary.Vi (Var 0 sort.Int))) ∷ []); items = ([]) }); post = (record { opened = []; facts = ((Rel relation.Eq (Var 1 sort.Val) (Of unary.Vi (Number (pos 1)))) ∷ []); locals = []; items = ([]) }) }) ∷ (record { is_void = false; name = name_main; params = ([]); vars = []; pre = (record { opened = []; facts = ([]); locals = []; items = ([]) }); post = (record { opened = []; facts = ((Rel relation.Eq (Var 0 sort.Val) (Of unary.Vi (Number (pos 0)))) ∷ []); locals = []; items = ([]) }) }) ∷ []) }) (record { is_void = false; name = name_f; params = (name_n0 ∷ []); vars = ((name_a0, sort.Int) ∷ []); pre = (record { opened = []; facts = ((Rel relation.Le (Number (pos 1)) (Var 0 sort.Int)) ∷ (Rel relation.Le (Var 0 sort.Int) (Number (pos 1000))) ∷ []); locals = ((name_n0, (Of unary.Vi (Var 0 sort.Int))) ∷ []); items = ([]) }); post = (record { opened = []; facts = ((Rel relation.Eq (Var 1 sort.Val) (Of unary.Vi (Number (pos 1)))) ∷ []); locals = []; items = ([]) }) }) (record { temps = (name_n0 ∷ name_s ∷ name_t ∷ name_i ∷ name_x1 ∷ name_d0 ∷ name_p1 ∷ name_q1 ∷ []); body = (c.Then (c.Set 1 (c.Const 3)) (c.Then (c.Set 2 (c.Const 3)) (c.Then (c.Set 2 (c.Binary two.Add kind.Signed (c.Temp 2) (c.Const 1))) (c.Then (c.Set 1 (c.Const 1)) (c.Then (c.Set 1 (c.Temp 1)) (c.Then (c.Return (Some (c.Temp 1))) c.End)))))) }) (s.Then 1 (s.Set ([]) ([])) s.NoBlock (s.Then 2 (s.Set ([]) ([])) s.NoBlock (s.Then 3 (s.Set ([]) ([])) s.NoBlock (s.Then 4 (s.Set ([]) ([])) s.NoBlock (s.Then 5 (s.Return ([]) ([]) ([])) s.NoBlock (s.Then 6 (s.Set ([]) ([])) s.NoBlock s.End)))))) ≡ (RefusedAt 5 9 1)
unfolding computing
random_659 = refl

random_660 : body_verdict (record { predicates = ((record { name = name_iv; args = ([]); cases = ((record { opened = (sort.Int ∷ []); facts = ((Rel relation.Le (Number (pos 0)) (Var 0 sort.Int)) ∷ (Rel relation.Le (Var 0 sort.Int) (Number (pos 50))) ∷ []); locals = []; items = ((Data (Number (pos 64)) (Global name_x) (Of2 binary.Cons (Of unary.Vi (Var 0 sort.Int)) Nil)) ∷ []) }) ∷ []) }) ∷ []); specs = ((record { is_void = false; name = name_main; params = ([]); vars = []; pre = (record { opened = []; facts = ([]); locals = []; items = ((Data (Number (pos 64)) (Global name_g) (Of2 binary.Cons (Of unary.Vi (Number (pos 3))) Nil)) ∷ (Data (Number (pos 64)) (Global name_x) (Of2 binary.Cons (Of unary.Vi (Number (pos 3))) Nil)) ∷ (Data (Number (pos 64)) (Global name_l) (Of2 binary.Cons (Of unary.Vi (Number (pos 0))) Nil)) ∷ []) }); post = (record { opened = (sort.List ∷ sort.List ∷ sort.List ∷ sort.List ∷ []); facts = ((IsInt (Var 0 sort.Val)) ∷ []); locals = []; items = ((Data (Number (pos 64)) (Global name_g) (Var 1 sort.List)) ∷ (Data (Number (pos 64)) (Global name_x) (Var 2 sort.List)) ∷ (Holds (Global name_l) (record { name = name_iv; args = ([]) })) ∷ (Data (Number (pos 64)) (Global name_x) (Var 3 sort.List)) ∷ (Data (Number (pos 64)) (Global name_l) (Var 4 sort.List)) ∷ []) }) }) ∷ []) }) (record { is_void = false; name = name_main; params = ([]); vars = []; pre = (record { opened = []; facts = ([]); locals = []; items = ((Data (Number (pos 64)) (Global name_g) (Of2 binary.Cons (Of unary.Vi (Number (pos 3))) Nil)) ∷ (Data (Number (pos 64)) (Global name_x) (Of2 binary.Cons (Of unary.Vi (Number (pos 3))) Nil)) ∷ (Data (Number (pos 64)) (Global name_l) (Of2 binary.Cons (Of unary.Vi (Number (pos 0))) Nil)) ∷ []) }); post = (record { opened = (sort.List ∷ sort.List ∷ sort.List ∷ sort.List ∷ []); facts = ((IsInt (Var 0 sort.Val)) ∷ []); locals = []; items = ((Data (Number (pos 64)) (Global name_g) (Var 1 sort.List)) ∷ (Data (Number (pos 64)) (Global name_x) (Var 2 sort.List)) ∷ (Holds (Global name_l) (record { name = name_iv; args = ([]) })) ∷ (Data (Number (pos 64)) (Global name_x) (Var 3 sort.List)) ∷ (Data (Number (pos 64)) (Global name_l) (Var 4 sort.List)) ∷ []) }) }) (record { temps = (name_s ∷ name_t ∷ name_i ∷ name_x1 ∷ name_d0 ∷ name_p1 ∷ name_q1 ∷ []); body = (c.Then (c.Set 0 (c.Const 3)) (c.Then (c.Set 1 (c.Const 2)) (c.Then (c.OnLock lock.Make (c.Address (root.Global name_l 1) c.Here)) (c.Then (c.Load 0 (root.Global name_g 1) c.Here) (c.Then (c.Set 3 (c.Const 0)) (c.Then (c.Set 2 (c.Const 0)) (c.Then (c.Loop (c.Then (c.If (c.Nonzero kind.Signed (c.Binary two.Lt kind.Signed (c.Temp 2) (c.Const 3))) (c.Then (c.Set 3 (c.Binary two.Add kind.Unsigned (c.Temp 3) (c.Const 2))) (c.Then (c.Set 2 (c.Binary two.Add kind.Signed (c.Temp 2) (c.Const 1))) c.End)) (c.Then c.Break c.End)) c.End)) (c.Then (c.Load 1 (root.Global name_g 1) c.Here) (c.Then (c.Set 0 (c.Const 1)) (c.Then (c.Set 0 (c.Const 3)) (c.Then c.Skip (c.Then (c.OnLock lock.Acquire (c.Address (root.Global name_l 1) c.Here)) (c.Then (c.Store (root.Global name_x 1) c.Here (c.Const 4)) (c.Then (c.OnLock lock.Release (c.Address (root.Global name_l 1) c.Here)) (c.Then (c.OnLock lock.Acquire (c.Address (root.Global name_l 1) c.Here)) (c.Then (c.OnLock lock.Free (c.Address (root.Global name_l 1) c.Here)) (c.Then (c.Return (Some (c.Temp 1))) c.End))))))))))))))))) }) (s.Then 1 (s.Set ([]) ([])) s.NoBlock (s.Then 2 (s.Set ([]) ([])) s.NoBlock (s.Then 3 (s.MakeLock 2 (record { name = name_iv; args = ([]) }) ([]) ([])) s.NoBlock (s.Then 4 (s.Load 0 ([]) ([])) s.NoBlock (s.Then 5 (s.Set ([]) ([])) s.NoBlock (s.Then 6 (s.Set ([]) ([])) s.NoBlock (s.Then 7 (s.While (record { opened = (sort.Int ∷ sort.Int ∷ []); facts = ((Rel relation.Le (Number (pos 0)) (Var 0 sort.Int)) ∷ (Rel relation.Le (Var 0 sort.Int) (Number (pos 3))) ∷ []); locals = ((name_s, (Of unary.Vi (Number (pos 3)))) ∷ (name_t, (Of unary.Vi (Number (pos 2)))) ∷ (name_i, (Of unary.Vi (Var 0 sort.Int))) ∷ (name_x1, (Of unary.Vi (Var 1 sort.Int))) ∷ []); items = ((Data (Number (pos 64)) (Global name_g) (Of2 binary.Cons (Of unary.Vi (Number (pos 3))) Nil)) ∷ (Data (Number (pos 64)) (Global name_x) (Of2 binary.Cons (Of unary.Vi (Number (pos 3))) Nil)) ∷ (Lock (Number (pos 64)) (Global name_l) (record { name = name_iv; args = ([]) })) ∷ (Holds (Global name_l) (record { name = name_iv; args = ([]) })) ∷ []) }) (record { opened = (sort.Int ∷ sort.Int ∷ []); facts = ((Rel relation.Le (Number (pos 0)) (Var 0 sort.Int)) ∷ (Rel relation.Le (Var 0 sort.Int) (Number (pos 3))) ∷ (Rel relation.Le (Number (pos 3)) (Var 0 sort.Int)) ∷ []); locals = ((name_s, (Of unary.Vi (Number (pos 3)))) ∷ (name_t, (Of unary.Vi (Number (pos 2)))) ∷ (name_i, (Of unary.Vi (Var 0 sort.Int))) ∷ (name_x1, (Of unary.Vi (Var 1 sort.Int))) ∷ []); items = ((Data (Number (pos 64)) (Global name_g) (Of2 binary.Cons (Of unary.Vi (Number (pos 3))) Nil)) ∷ (Data (Number (pos 64)) (Global name_x) (Of2 binary.Cons (Of unary.Vi (Number (pos 3))) Nil)) ∷ (Lock (Number (pos 64)) (Global name_l) (record { name = name_iv; args = ([]) })) ∷ (Holds (Global name_l) (record { name = name_iv; args = ([]) })) ∷ []) }) (name_k3 ∷ name_k4 ∷ []) ([]) (name_k1 ∷ name_k2 ∷ [])) (s.WithBlock (s.Then 8 (s.Meet ((Number (pos 0)) ∷ (Number (pos 0)) ∷ []) ([])) s.NoBlock s.End) (s.WithBlock (s.Then 9 (s.If ([]) ((record { lines = ((line.Comb (((pos 1), 0) ∷ ((pos 1), 2) ∷ [])) ∷ []) }) ∷ (record { lines = ((line.Comb (((pos 1), 1) ∷ ((pos 1), 2) ∷ [])) ∷ []) }) ∷ []) ([]) ([])) (s.WithBlock (s.Then 10 (s.Set ([]) ([])) s.NoBlock (s.Then 11 (s.Set ([]) ((record { lines = ((line.Comb (((pos 1), 0) ∷ ((pos 1), 3) ∷ [])) ∷ []) }) ∷ (record { lines = ((line.Comb (((pos 1), 1) ∷ ((pos 1), 3) ∷ [])) ∷ []) }) ∷ (record { lines = ((line.Comb (((pos 1), 0) ∷ ((pos 1), 3) ∷ [])) ∷ []) }) ∷ (record { lines = ((line.Comb (((pos 1), 1) ∷ ((pos 1), 3) ∷ [])) ∷ []) }) ∷ [])) s.NoBlock (s.Then 12 (s.Fall ((Of2 binary.Add (Named name_k1) (Number (pos 1))) ∷ (Of2 binary.Add (Named name_k2) (Number (pos 2))) ∷ []) ((record { lines = ((line.Comb (((pos 1), 0) ∷ ((pos 1), 3) ∷ [])) ∷ []) }) ∷ [])) s.NoBlock s.End))) (s.WithBlock (s.Then 13 (s.Break ((Named name_k1) ∷ (Named name_k2) ∷ []) ([])) s.NoBlock s.End) s.NoBlock)) s.End) s.NoBlock)) (s.Then 14 (s.Load 0 ([]) ([])) s.NoBlock (s.Then 15 (s.Set ([]) ([])) s.NoBlock (s.Then 16 (s.Set ([]) ([])) s.NoBlock (s.Then 17 s.Skip s.NoBlock (s.Then 18 (s.Acquire 2 ([])) s.NoBlock (s.Then 19 (s.Unfold 5 ((name_k5 ∷ []) ∷ [])) (s.WithBlock (s.Then 20 (s.Store 1 ([]) ([])) s.NoBlock (s.Then 21 (s.Fold name_iv 0 ([]) ((Number (pos 4)) ∷ []) ([])) s.NoBlock (s.Then 22 (s.Release 2 5 ([])) s.NoBlock (s.Then 23 (s.Acquire 1 ([])) s.NoBlock (s.Then 24 (s.Unfold 5 ((name_k6 ∷ []) ∷ [])) (s.WithBlock (s.Then 25 (s.FreeLock 1 2 ([]) ([])) s.NoBlock (s.Then 26 (s.Return ((Of2 binary.Cons (Of unary.Vi (Number (pos 3))) Nil) ∷ (Of2 binary.Cons (Of unary.Vi (Named name_k5)) Nil) ∷ (Of2 binary.Cons (Of unary.Vi (Named name_k6)) Nil) ∷ (Of2 binary.Cons Undef Nil) ∷ []) ([]) ([])) s.NoBlock s.End)) s.NoBlock) s.End))))) s.NoBlock) s.End))))))))))))) ≡ Accepted
unfolding computing
random_660 = refl

random_661 : body_verdict (record { predicates = ((record { name = name_iv; args = ([]); cases = ((record { opened = (sort.Int ∷ []); facts = ((Rel relation.Le (Number (pos 0)) (Var 0 sort.Int)) ∷ (Rel relation.Le (Var 0 sort.Int) (Number (pos 50))) ∷ []); locals = []; items = ((Data (Number (pos 64)) (Global name_x) (Of2 binary.Cons (Of unary.Vi (Var 0 sort.Int)) Nil)) ∷ []) }) ∷ []) }) ∷ []); specs = ((record { is_void = false; name = name_main; params = ([]); vars = []; pre = (record { opened = []; facts = ([]); locals = []; items = ((Data (Number (pos 64)) (Global name_g) (Of2 binary.Cons (Of unary.Vi (Number (pos 3))) Nil)) ∷ (Data (Number (pos 64)) (Global name_x) (Of2 binary.Cons (Of unary.Vi (Number (pos 3))) Nil)) ∷ (Data (Number (pos 64)) (Global name_l) (Of2 binary.Cons (Of unary.Vi (Number (pos 0))) Nil)) ∷ []) }); post = (record { opened = (sort.List ∷ sort.List ∷ sort.List ∷ sort.List ∷ []); facts = ((IsInt (Var 0 sort.Val)) ∷ []); locals = []; items = ((Data (Number (pos 64)) (Global name_g) (Var 1 sort.List)) ∷ (Data (Number (pos 64)) (Global name_x) (Var 2 sort.List)) ∷ (Holds (Global name_l) (record { name = name_iv; args = ([]) })) ∷ (Data (Number (pos 64)) (Global name_x) (Var 3 sort.List)) ∷ (Data (Number (pos 64)) (Global name_l) (Var 4 sort.List)) ∷ []) }) }) ∷ []) }) (record { is_void = false; name = name_main; params = ([]); vars = []; pre = (record { opened = []; facts = ([]); locals = []; items = ((Data (Number (pos 64)) (Global name_g) (Of2 binary.Cons (Of unary.Vi (Number (pos 3))) Nil)) ∷ (Data (Number (pos 64)) (Global name_x) (Of2 binary.Cons (Of unary.Vi (Number (pos 3))) Nil)) ∷ (Data (Number (pos 64)) (Global name_l) (Of2 binary.Cons (Of unary.Vi (Number (pos 0))) Nil)) ∷ []) }); post = (record { opened = (sort.List ∷ sort.List ∷ sort.List ∷ sort.List ∷ []); facts = ((IsInt (Var 0 sort.Val)) ∷ []); locals = []; items = ((Data (Number (pos 64)) (Global name_g) (Var 1 sort.List)) ∷ (Data (Number (pos 64)) (Global name_x) (Var 2 sort.List)) ∷ (Holds (Global name_l) (record { name = name_iv; args = ([]) })) ∷ (Data (Number (pos 64)) (Global name_x) (Var 3 sort.List)) ∷ (Data (Number (pos 64)) (Global name_l) (Var 4 sort.List)) ∷ []) }) }) (record { temps = (name_s ∷ name_t ∷ name_i ∷ name_x1 ∷ name_d0 ∷ name_p1 ∷ name_q1 ∷ []); body = (c.Then (c.Set 0 (c.Const 3)) (c.Then (c.Set 1 (c.Const 2)) (c.Then (c.OnLock lock.Make (c.Address (root.Global name_l 1) c.Here)) (c.Then (c.Load 0 (root.Global name_g 1) c.Here) (c.Then (c.Set 3 (c.Const 0)) (c.Then (c.Set 2 (c.Const 0)) (c.Then (c.Loop (c.Then (c.If (c.Nonzero kind.Signed (c.Binary two.Lt kind.Signed (c.Temp 2) (c.Const 3))) (c.Then (c.Set 3 (c.Binary two.Add kind.Unsigned (c.Temp 3) (c.Const 2))) (c.Then (c.Set 2 (c.Binary two.Add kind.Signed (c.Temp 2) (c.Const 1))) c.End)) (c.Then c.Break c.End)) c.End)) (c.Then (c.Load 1 (root.Global name_g 1) c.Here) (c.Then (c.Set 0 (c.Const 1)) (c.Then (c.Set 0 (c.Const 3)) (c.Then c.Skip (c.Then (c.OnLock lock.Acquire (c.Address (root.Global name_l 1) c.Here)) (c.Then (c.Store (root.Global name_x 1) c.Here (c.Const 4)) (c.Then (c.OnLock lock.Release (c.Address (root.Global name_l 1) c.Here)) (c.Then (c.OnLock lock.Acquire (c.Address (root.Global name_l 1) c.Here)) (c.Then (c.OnLock lock.Free (c.Address (root.Global name_l 1) c.Here)) (c.Then (c.Return (Some (c.Temp 1))) c.End))))))))))))))))) }) (s.Then 1 (s.Set ([]) ([])) s.NoBlock (s.Then 2 (s.Set ([]) ([])) s.NoBlock (s.Then 3 (s.MakeLock 2 (record { name = name_iv; args = ([]) }) ([]) ([])) s.NoBlock (s.Then 4 (s.Load 0 ([]) ([])) s.NoBlock (s.Then 5 (s.Set ([]) ([])) s.NoBlock (s.Then 6 (s.Set ([]) ([])) s.NoBlock (s.Then 7 (s.While (record { opened = (sort.Int ∷ sort.Int ∷ []); facts = ((Rel relation.Le (Number (pos 0)) (Var 0 sort.Int)) ∷ (Rel relation.Le (Var 0 sort.Int) (Number (pos 3))) ∷ []); locals = ((name_s, (Of unary.Vi (Number (pos 3)))) ∷ (name_t, (Of unary.Vi (Number (pos 2)))) ∷ (name_i, (Of unary.Vi (Var 0 sort.Int))) ∷ (name_x1, (Of unary.Vi (Var 1 sort.Int))) ∷ []); items = ((Data (Number (pos 64)) (Global name_g) (Of2 binary.Cons (Of unary.Vi (Number (pos 3))) Nil)) ∷ (Data (Number (pos 64)) (Global name_x) (Of2 binary.Cons (Of unary.Vi (Number (pos 3))) Nil)) ∷ (Lock (Number (pos 64)) (Global name_l) (record { name = name_iv; args = ([]) })) ∷ (Holds (Global name_l) (record { name = name_iv; args = ([]) })) ∷ []) }) (record { opened = (sort.Int ∷ sort.Int ∷ []); facts = ((Rel relation.Le (Number (pos 0)) (Var 0 sort.Int)) ∷ (Rel relation.Le (Var 0 sort.Int) (Number (pos 3))) ∷ (Rel relation.Le (Number (pos 3)) (Var 0 sort.Int)) ∷ []); locals = ((name_s, (Of unary.Vi (Number (pos 3)))) ∷ (name_t, (Of unary.Vi (Number (pos 2)))) ∷ (name_i, (Of unary.Vi (Var 0 sort.Int))) ∷ (name_x1, (Of unary.Vi (Var 1 sort.Int))) ∷ []); items = ((Data (Number (pos 64)) (Global name_g) (Of2 binary.Cons (Of unary.Vi (Number (pos 3))) Nil)) ∷ (Data (Number (pos 64)) (Global name_x) (Of2 binary.Cons (Of unary.Vi (Number (pos 3))) Nil)) ∷ (Lock (Number (pos 64)) (Global name_l) (record { name = name_iv; args = ([]) })) ∷ (Holds (Global name_l) (record { name = name_iv; args = ([]) })) ∷ []) }) (name_k3 ∷ name_k4 ∷ []) ([]) (name_k1 ∷ name_k2 ∷ [])) (s.WithBlock (s.Then 8 (s.Meet ((Number (pos 0)) ∷ (Number (pos 0)) ∷ []) ([])) s.NoBlock s.End) (s.WithBlock (s.Then 9 (s.If ([]) ((record { lines = ((line.Comb (((pos 1), 0) ∷ ((pos 1), 2) ∷ [])) ∷ []) }) ∷ (record { lines = ((line.Comb (((pos 1), 1) ∷ ((pos 1), 2) ∷ [])) ∷ []) }) ∷ []) ([]) ([])) (s.WithBlock (s.Then 10 (s.Set ([]) ([])) s.NoBlock (s.Then 11 (s.Set ([]) ((record { lines = ((line.Comb (((pos 1), 0) ∷ ((pos 1), 3) ∷ [])) ∷ []) }) ∷ (record { lines = ((line.Comb (((pos 1), 1) ∷ ((pos 1), 3) ∷ [])) ∷ []) }) ∷ (record { lines = ((line.Comb (((pos 1), 0) ∷ ((pos 1), 3) ∷ [])) ∷ []) }) ∷ (record { lines = ((line.Comb (((pos 1), 1) ∷ ((pos 1), 3) ∷ [])) ∷ []) }) ∷ [])) s.NoBlock (s.Then 12 (s.Fall ((Of2 binary.Add (Named name_k1) (Number (pos 1))) ∷ (Of2 binary.Add (Named name_k2) (Number (pos 2))) ∷ []) ((record { lines = ((line.Comb (((pos 1), 0) ∷ ((pos 1), 3) ∷ [])) ∷ []) }) ∷ [])) s.NoBlock s.End))) (s.WithBlock (s.Then 13 (s.Break ((Named name_k1) ∷ (Named name_k2) ∷ []) ([])) s.NoBlock s.End) s.NoBlock)) s.End) s.NoBlock)) (s.Then 14 (s.Load 0 ([]) ([])) s.NoBlock (s.Then 15 (s.Set ([]) ([])) s.NoBlock (s.Then 16 (s.Set ([]) ([])) s.NoBlock (s.Then 17 s.Skip s.NoBlock (s.Then 18 (s.Acquire 2 ([])) s.NoBlock (s.Then 19 (s.Unfold 5 ((name_k5 ∷ []) ∷ [])) (s.WithBlock (s.Then 20 (s.Store 1 ([]) ([])) s.NoBlock (s.Then 21 (s.Fold name_iv 0 ([]) ((Number (pos 4)) ∷ []) ([])) s.NoBlock (s.Then 22 (s.Return ((Of2 binary.Cons (Of unary.Vi (Number (pos 3))) Nil) ∷ (Of2 binary.Cons (Of unary.Vi (Named name_k5)) Nil) ∷ (Of2 binary.Cons (Of unary.Vi (Named name_k6)) Nil) ∷ (Of2 binary.Cons Undef Nil) ∷ []) ([]) ([])) s.NoBlock (s.Then 23 (s.Release 2 5 ([])) s.NoBlock (s.Then 24 (s.Acquire 1 ([])) s.NoBlock (s.Then 25 (s.Unfold 5 ((name_k6 ∷ []) ∷ [])) (s.WithBlock (s.Then 26 (s.FreeLock 1 2 ([]) ([])) s.NoBlock (s.Then 27 (s.Return ((Of2 binary.Cons (Of unary.Vi (Number (pos 3))) Nil) ∷ (Of2 binary.Cons (Of unary.Vi (Named name_k5)) Nil) ∷ (Of2 binary.Cons (Of unary.Vi (Named name_k6)) Nil) ∷ (Of2 binary.Cons Undef Nil) ∷ []) ([]) ([])) s.NoBlock s.End)) s.NoBlock) s.End)))))) s.NoBlock) s.End))))))))))))) ≡ (RefusedAt 22 9 1)
unfolding computing
random_661 = refl

random_662 : body_verdict (record { predicates = ((record { name = name_iv; args = ([]); cases = ((record { opened = (sort.Int ∷ []); facts = ((Rel relation.Le (Number (pos 0)) (Var 0 sort.Int)) ∷ (Rel relation.Le (Var 0 sort.Int) (Number (pos 50))) ∷ []); locals = []; items = ((Data (Number (pos 64)) (Global name_x) (Of2 binary.Cons (Of unary.Vi (Var 0 sort.Int)) Nil)) ∷ []) }) ∷ []) }) ∷ []); specs = ((record { is_void = false; name = name_main; params = ([]); vars = []; pre = (record { opened = []; facts = ([]); locals = []; items = ((Data (Number (pos 64)) (Global name_g) (Of2 binary.Cons (Of unary.Vi (Number (pos 3))) Nil)) ∷ (Data (Number (pos 64)) (Global name_x) (Of2 binary.Cons (Of unary.Vi (Number (pos 3))) Nil)) ∷ (Data (Number (pos 64)) (Global name_l) (Of2 binary.Cons (Of unary.Vi (Number (pos 0))) Nil)) ∷ []) }); post = (record { opened = (sort.List ∷ sort.List ∷ sort.List ∷ sort.List ∷ []); facts = ((IsInt (Var 0 sort.Val)) ∷ []); locals = []; items = ((Data (Number (pos 64)) (Global name_g) (Var 1 sort.List)) ∷ (Data (Number (pos 64)) (Global name_x) (Var 2 sort.List)) ∷ (Holds (Global name_l) (record { name = name_iv; args = ([]) })) ∷ (Data (Number (pos 64)) (Global name_x) (Var 3 sort.List)) ∷ (Data (Number (pos 64)) (Global name_l) (Var 4 sort.List)) ∷ []) }) }) ∷ []) }) (record { is_void = false; name = name_main; params = ([]); vars = []; pre = (record { opened = []; facts = ([]); locals = []; items = ((Data (Number (pos 64)) (Global name_g) (Of2 binary.Cons (Of unary.Vi (Number (pos 3))) Nil)) ∷ (Data (Number (pos 64)) (Global name_x) (Of2 binary.Cons (Of unary.Vi (Number (pos 3))) Nil)) ∷ (Data (Number (pos 64)) (Global name_l) (Of2 binary.Cons (Of unary.Vi (Number (pos 0))) Nil)) ∷ []) }); post = (record { opened = (sort.List ∷ sort.List ∷ sort.List ∷ sort.List ∷ []); facts = ((IsInt (Var 0 sort.Val)) ∷ []); locals = []; items = ((Data (Number (pos 64)) (Global name_g) (Var 1 sort.List)) ∷ (Data (Number (pos 64)) (Global name_x) (Var 2 sort.List)) ∷ (Holds (Global name_l) (record { name = name_iv; args = ([]) })) ∷ (Data (Number (pos 64)) (Global name_x) (Var 3 sort.List)) ∷ (Data (Number (pos 64)) (Global name_l) (Var 4 sort.List)) ∷ []) }) }) (record { temps = (name_s ∷ name_t ∷ name_i ∷ name_x1 ∷ name_d0 ∷ name_p1 ∷ name_q1 ∷ []); body = (c.Then (c.Set 0 (c.Const 3)) (c.Then (c.Set 1 (c.Const 2)) (c.Then (c.OnLock lock.Make (c.Address (root.Global name_l 1) c.Here)) (c.Then (c.Load 0 (root.Global name_g 1) c.Here) (c.Then (c.Set 3 (c.Const 0)) (c.Then (c.Set 2 (c.Const 0)) (c.Then (c.Loop (c.Then (c.If (c.Nonzero kind.Signed (c.Binary two.Lt kind.Signed (c.Temp 2) (c.Const 3))) (c.Then (c.Set 3 (c.Binary two.Add kind.Unsigned (c.Temp 3) (c.Const 2))) (c.Then (c.Set 2 (c.Binary two.Add kind.Signed (c.Temp 2) (c.Const 1))) c.End)) (c.Then c.Break c.End)) c.End)) (c.Then (c.Load 1 (root.Global name_g 1) c.Here) (c.Then (c.Set 0 (c.Const 1)) (c.Then (c.Set 0 (c.Const 3)) (c.Then c.Skip (c.Then (c.OnLock lock.Acquire (c.Address (root.Global name_l 1) c.Here)) (c.Then (c.Store (root.Global name_x 1) c.Here (c.Const 4)) (c.Then (c.OnLock lock.Release (c.Address (root.Global name_l 1) c.Here)) (c.Then (c.OnLock lock.Acquire (c.Address (root.Global name_l 1) c.Here)) (c.Then (c.OnLock lock.Free (c.Address (root.Global name_l 1) c.Here)) (c.Then (c.Return (Some (c.Temp 1))) c.End))))))))))))))))) }) (s.Then 1 (s.Set ([]) ([])) s.NoBlock (s.Then 2 (s.Set ([]) ([])) s.NoBlock (s.Then 3 (s.MakeLock 2 (record { name = name_iv; args = ([]) }) ([]) ([])) s.NoBlock (s.Then 4 (s.Load 0 ([]) ([])) s.NoBlock (s.Then 5 (s.Set ([]) ([])) s.NoBlock (s.Then 6 (s.Set ([]) ([])) s.NoBlock (s.Then 7 (s.While (record { opened = (sort.Int ∷ sort.Int ∷ []); facts = ((Rel relation.Le (Number (pos 0)) (Var 0 sort.Int)) ∷ (Rel relation.Le (Var 0 sort.Int) (Number (pos 3))) ∷ []); locals = ((name_s, (Of unary.Vi (Number (pos 3)))) ∷ (name_t, (Of unary.Vi (Number (pos 2)))) ∷ (name_i, (Of unary.Vi (Var 0 sort.Int))) ∷ (name_x1, (Of unary.Vi (Var 1 sort.Int))) ∷ []); items = ((Data (Number (pos 64)) (Global name_g) (Of2 binary.Cons (Of unary.Vi (Number (pos 3))) Nil)) ∷ (Data (Number (pos 64)) (Global name_x) (Of2 binary.Cons (Of unary.Vi (Number (pos 3))) Nil)) ∷ (Lock (Number (pos 64)) (Global name_l) (record { name = name_iv; args = ([]) })) ∷ (Holds (Global name_l) (record { name = name_iv; args = ([]) })) ∷ []) }) (record { opened = (sort.Int ∷ sort.Int ∷ []); facts = ((Rel relation.Le (Number (pos 0)) (Var 0 sort.Int)) ∷ (Rel relation.Le (Var 0 sort.Int) (Number (pos 3))) ∷ (Rel relation.Le (Number (pos 3)) (Var 0 sort.Int)) ∷ []); locals = ((name_s, (Of unary.Vi (Number (pos 3)))) ∷ (name_t, (Of unary.Vi (Number (pos 2)))) ∷ (name_i, (Of unary.Vi (Var 0 sort.Int))) ∷ (name_x1, (Of unary.Vi (Var 1 sort.Int))) ∷ []); items = ((Data (Number (pos 64)) (Global name_g) (Of2 binary.Cons (Of unary.Vi (Number (pos 3))) Nil)) ∷ (Data (Number (pos 64)) (Global name_x) (Of2 binary.Cons (Of unary.Vi (Number (pos 3))) Nil)) ∷ (Lock (Number (pos 64)) (Global name_l) (record { name = name_iv; args = ([]) })) ∷ (Holds (Global name_l) (record { name = name_iv; args = ([]) })) ∷ []) }) (name_k3 ∷ name_k4 ∷ []) ([]) (name_k1 ∷ name_k2 ∷ [])) (s.WithBlock (s.Then 8 (s.Meet ((Number (pos 0)) ∷ (Number (pos 0)) ∷ []) ([])) s.NoBlock s.End) (s.WithBlock (s.Then 9 (s.If ([]) ((record { lines = ((line.Comb (((pos 1), 0) ∷ ((pos 1), 2) ∷ [])) ∷ []) }) ∷ (record { lines = ((line.Comb (((pos 1), 1) ∷ ((pos 1), 2) ∷ [])) ∷ []) }) ∷ []) ([]) ([])) (s.WithBlock (s.Then 10 (s.Set ([]) ((record { lines = ((line.Comb (((pos 1), 0) ∷ ((pos 1), 3) ∷ [])) ∷ []) }) ∷ (record { lines = ((line.Comb (((pos 1), 1) ∷ ((pos 1), 3) ∷ [])) ∷ []) }) ∷ (record { lines = ((line.Comb (((pos 1), 0) ∷ ((pos 1), 3) ∷ [])) ∷ []) }) ∷ (record { lines = ((line.Comb (((pos 1), 1) ∷ ((pos 1), 3) ∷ [])) ∷ []) }) ∷ [])) s.NoBlock (s.Then 11 (s.Fall ((Of2 binary.Add (Named name_k1) (Number (pos 1))) ∷ (Of2 binary.Add (Named name_k2) (Number (pos 2))) ∷ []) ((record { lines = ((line.Comb (((pos 1), 0) ∷ ((pos 1), 3) ∷ [])) ∷ []) }) ∷ [])) s.NoBlock s.End)) (s.WithBlock (s.Then 12 (s.Break ((Named name_k1) ∷ (Named name_k2) ∷ []) ([])) s.NoBlock s.End) s.NoBlock)) s.End) s.NoBlock)) (s.Then 13 (s.Load 0 ([]) ([])) s.NoBlock (s.Then 14 (s.Set ([]) ([])) s.NoBlock (s.Then 15 (s.Set ([]) ([])) s.NoBlock (s.Then 16 s.Skip s.NoBlock (s.Then 17 (s.Acquire 2 ([])) s.NoBlock (s.Then 18 (s.Unfold 5 ((name_k5 ∷ []) ∷ [])) (s.WithBlock (s.Then 19 (s.Store 1 ([]) ([])) s.NoBlock (s.Then 20 (s.Fold name_iv 0 ([]) ((Number (pos 4)) ∷ []) ([])) s.NoBlock (s.Then 21 (s.Release 2 5 ([])) s.NoBlock (s.Then 22 (s.Acquire 1 ([])) s.NoBlock (s.Then 23 (s.Unfold 5 ((name_k6 ∷ []) ∷ [])) (s.WithBlock (s.Then 24 (s.FreeLock 1 2 ([]) ([])) s.NoBlock (s.Then 25 (s.Return ((Of2 binary.Cons (Of unary.Vi (Number (pos 3))) Nil) ∷ (Of2 binary.Cons (Of unary.Vi (Named name_k5)) Nil) ∷ (Of2 binary.Cons (Of unary.Vi (Named name_k6)) Nil) ∷ (Of2 binary.Cons Undef Nil) ∷ []) ([]) ([])) s.NoBlock s.End)) s.NoBlock) s.End))))) s.NoBlock) s.End))))))))))))) ≡ (RefusedAt 10 2 3)
unfolding computing
random_662 = refl

random_663 : body_verdict (record { predicates = ((record { name = name_iv; args = ([]); cases = ((record { opened = (sort.Int ∷ []); facts = ((Rel relation.Le (Number (pos 0)) (Var 0 sort.Int)) ∷ (Rel relation.Le (Var 0 sort.Int) (Number (pos 50))) ∷ []); locals = []; items = ((Data (Number (pos 64)) (Global name_x) (Of2 binary.Cons (Of unary.Vi (Var 0 sort.Int)) Nil)) ∷ []) }) ∷ []) }) ∷ []); specs = ((record { is_void = false; name = name_main; params = ([]); vars = []; pre = (record { opened = []; facts = ([]); locals = []; items = ((Data (Number (pos 64)) (Global name_g) (Of2 binary.Cons (Of unary.Vi (Number (pos 3))) Nil)) ∷ (Data (Number (pos 64)) (Global name_x) (Of2 binary.Cons (Of unary.Vi (Number (pos 3))) Nil)) ∷ (Data (Number (pos 64)) (Global name_l) (Of2 binary.Cons (Of unary.Vi (Number (pos 0))) Nil)) ∷ []) }); post = (record { opened = (sort.List ∷ sort.List ∷ sort.List ∷ sort.List ∷ []); facts = ((IsInt (Var 0 sort.Val)) ∷ []); locals = []; items = ((Data (Number (pos 64)) (Global name_g) (Var 1 sort.List)) ∷ (Data (Number (pos 64)) (Global name_x) (Var 2 sort.List)) ∷ (Holds (Global name_l) (record { name = name_iv; args = ([]) })) ∷ (Data (Number (pos 64)) (Global name_x) (Var 3 sort.List)) ∷ (Data (Number (pos 64)) (Global name_l) (Var 4 sort.List)) ∷ []) }) }) ∷ []) }) (record { is_void = false; name = name_main; params = ([]); vars = []; pre = (record { opened = []; facts = ([]); locals = []; items = ((Data (Number (pos 64)) (Global name_g) (Of2 binary.Cons (Of unary.Vi (Number (pos 3))) Nil)) ∷ (Data (Number (pos 64)) (Global name_x) (Of2 binary.Cons (Of unary.Vi (Number (pos 3))) Nil)) ∷ (Data (Number (pos 64)) (Global name_l) (Of2 binary.Cons (Of unary.Vi (Number (pos 0))) Nil)) ∷ []) }); post = (record { opened = (sort.List ∷ sort.List ∷ sort.List ∷ sort.List ∷ []); facts = ((IsInt (Var 0 sort.Val)) ∷ []); locals = []; items = ((Data (Number (pos 64)) (Global name_g) (Var 1 sort.List)) ∷ (Data (Number (pos 64)) (Global name_x) (Var 2 sort.List)) ∷ (Holds (Global name_l) (record { name = name_iv; args = ([]) })) ∷ (Data (Number (pos 64)) (Global name_x) (Var 3 sort.List)) ∷ (Data (Number (pos 64)) (Global name_l) (Var 4 sort.List)) ∷ []) }) }) (record { temps = (name_s ∷ name_t ∷ name_i ∷ name_x1 ∷ name_d0 ∷ name_p1 ∷ name_q1 ∷ []); body = (c.Then (c.Set 0 (c.Const 3)) (c.Then (c.Set 1 (c.Const 2)) (c.Then c.Skip (c.Then (c.OnLock lock.Make (c.Address (root.Global name_l 1) c.Here)) (c.Then (c.Load 0 (root.Global name_g 1) c.Here) (c.Then (c.Set 3 (c.Const 0)) (c.Then (c.Set 2 (c.Const 0)) (c.Then (c.Loop (c.Then (c.If (c.Nonzero kind.Signed (c.Binary two.Lt kind.Signed (c.Temp 2) (c.Const 3))) (c.Then (c.Set 3 (c.Binary two.Add kind.Unsigned (c.Temp 3) (c.Const 2))) (c.Then (c.Set 2 (c.Binary two.Add kind.Signed (c.Temp 2) (c.Const 1))) c.End)) (c.Then c.Break c.End)) c.End)) (c.Then (c.Load 1 (root.Global name_g 1) c.Here) (c.Then (c.Set 0 (c.Const 1)) (c.Then (c.Set 0 (c.Const 3)) (c.Then c.Skip (c.Then (c.OnLock lock.Acquire (c.Address (root.Global name_l 1) c.Here)) (c.Then (c.Store (root.Global name_x 1) c.Here (c.Const 4)) (c.Then (c.OnLock lock.Release (c.Address (root.Global name_l 1) c.Here)) (c.Then (c.OnLock lock.Acquire (c.Address (root.Global name_l 1) c.Here)) (c.Then (c.OnLock lock.Free (c.Address (root.Global name_l 1) c.Here)) (c.Then (c.Return (Some (c.Temp 1))) c.End)))))))))))))))))) }) (s.Then 1 (s.Set ([]) ([])) s.NoBlock (s.Then 2 (s.Set ([]) ([])) s.NoBlock (s.Then 3 (s.MakeLock 2 (record { name = name_iv; args = ([]) }) ([]) ([])) s.NoBlock (s.Then 4 (s.Load 0 ([]) ([])) s.NoBlock (s.Then 5 (s.Set ([]) ([])) s.NoBlock (s.Then 6 (s.Set ([]) ([])) s.NoBlock (s.Then 7 (s.While (record { opened = (sort.Int ∷ sort.Int ∷ []); facts = ((Rel relation.Le (Number (pos 0)) (Var 0 sort.Int)) ∷ (Rel relation.Le (Var 0 sort.Int) (Number (pos 3))) ∷ []); locals = ((name_s, (Of unary.Vi (Number (pos 3)))) ∷ (name_t, (Of unary.Vi (Number (pos 2)))) ∷ (name_i, (Of unary.Vi (Var 0 sort.Int))) ∷ (name_x1, (Of unary.Vi (Var 1 sort.Int))) ∷ []); items = ((Data (Number (pos 64)) (Global name_g) (Of2 binary.Cons (Of unary.Vi (Number (pos 3))) Nil)) ∷ (Data (Number (pos 64)) (Global name_x) (Of2 binary.Cons (Of unary.Vi (Number (pos 3))) Nil)) ∷ (Lock (Number (pos 64)) (Global name_l) (record { name = name_iv; args = ([]) })) ∷ (Holds (Global name_l) (record { name = name_iv; args = ([]) })) ∷ []) }) (record { opened = (sort.Int ∷ sort.Int ∷ []); facts = ((Rel relation.Le (Number (pos 0)) (Var 0 sort.Int)) ∷ (Rel relation.Le (Var 0 sort.Int) (Number (pos 3))) ∷ (Rel relation.Le (Number (pos 3)) (Var 0 sort.Int)) ∷ []); locals = ((name_s, (Of unary.Vi (Number (pos 3)))) ∷ (name_t, (Of unary.Vi (Number (pos 2)))) ∷ (name_i, (Of unary.Vi (Var 0 sort.Int))) ∷ (name_x1, (Of unary.Vi (Var 1 sort.Int))) ∷ []); items = ((Data (Number (pos 64)) (Global name_g) (Of2 binary.Cons (Of unary.Vi (Number (pos 3))) Nil)) ∷ (Data (Number (pos 64)) (Global name_x) (Of2 binary.Cons (Of unary.Vi (Number (pos 3))) Nil)) ∷ (Lock (Number (pos 64)) (Global name_l) (record { name = name_iv; args = ([]) })) ∷ (Holds (Global name_l) (record { name = name_iv; args = ([]) })) ∷ []) }) (name_k3 ∷ name_k4 ∷ []) ([]) (name_k1 ∷ name_k2 ∷ [])) (s.WithBlock (s.Then 8 (s.Meet ((Number (pos 0)) ∷ (Number (pos 0)) ∷ []) ([])) s.NoBlock s.End) (s.WithBlock (s.Then 9 (s.If ([]) ((record { lines = ((line.Comb (((pos 1), 0) ∷ ((pos 1), 2) ∷ [])) ∷ []) }) ∷ (record { lines = ((line.Comb (((pos 1), 1) ∷ ((pos 1), 2) ∷ [])) ∷ []) }) ∷ []) ([]) ([])) (s.WithBlock (s.Then 10 (s.Set ([]) ([])) s.NoBlock (s.Then 11 (s.Set ([]) ((record { lines = ((line.Comb (((pos 1), 0) ∷ ((pos 1), 3) ∷ [])) ∷ []) }) ∷ (record { lines = ((line.Comb (((pos 1), 1) ∷ ((pos 1), 3) ∷ [])) ∷ []) }) ∷ (record { lines = ((line.Comb (((pos 1), 0) ∷ ((pos 1), 3) ∷ [])) ∷ []) }) ∷ (record { lines = ((line.Comb (((pos 1), 1) ∷ ((pos 1), 3) ∷ [])) ∷ []) }) ∷ [])) s.NoBlock (s.Then 12 (s.Fall ((Of2 binary.Add (Named name_k1) (Number (pos 1))) ∷ (Of2 binary.Add (Named name_k2) (Number (pos 2))) ∷ []) ((record { lines = ((line.Comb (((pos 1), 0) ∷ ((pos 1), 3) ∷ [])) ∷ []) }) ∷ [])) s.NoBlock s.End))) (s.WithBlock (s.Then 13 (s.Break ((Named name_k1) ∷ (Named name_k2) ∷ []) ([])) s.NoBlock s.End) s.NoBlock)) s.End) s.NoBlock)) (s.Then 14 (s.Load 0 ([]) ([])) s.NoBlock (s.Then 15 (s.Set ([]) ([])) s.NoBlock (s.Then 16 (s.Set ([]) ([])) s.NoBlock (s.Then 17 s.Skip s.NoBlock (s.Then 18 (s.Acquire 2 ([])) s.NoBlock (s.Then 19 (s.Unfold 5 ((name_k5 ∷ []) ∷ [])) (s.WithBlock (s.Then 20 (s.Store 1 ([]) ([])) s.NoBlock (s.Then 21 (s.Fold name_iv 0 ([]) ((Number (pos 4)) ∷ []) ([])) s.NoBlock (s.Then 22 (s.Release 2 5 ([])) s.NoBlock (s.Then 23 (s.Acquire 1 ([])) s.NoBlock (s.Then 24 (s.Unfold 5 ((name_k6 ∷ []) ∷ [])) (s.WithBlock (s.Then 25 (s.FreeLock 1 2 ([]) ([])) s.NoBlock (s.Then 26 (s.Return ((Of2 binary.Cons (Of unary.Vi (Number (pos 3))) Nil) ∷ (Of2 binary.Cons (Of unary.Vi (Named name_k5)) Nil) ∷ (Of2 binary.Cons (Of unary.Vi (Named name_k6)) Nil) ∷ (Of2 binary.Cons Undef Nil) ∷ []) ([]) ([])) s.NoBlock s.End)) s.NoBlock) s.End))))) s.NoBlock) s.End))))))))))))) ≡ (RefusedAt 3 16 1)
unfolding computing
random_663 = refl

random_664 : body_verdict (record { predicates = ((record { name = name_iv; args = ([]); cases = ((record { opened = (sort.Int ∷ []); facts = ((Rel relation.Le (Number (pos 0)) (Var 0 sort.Int)) ∷ (Rel relation.Le (Var 0 sort.Int) (Number (pos 50))) ∷ []); locals = []; items = ((Data (Number (pos 64)) (Global name_x) (Of2 binary.Cons (Of unary.Vi (Var 0 sort.Int)) Nil)) ∷ []) }) ∷ []) }) ∷ []); specs = ((record { is_void = false; name = name_main; params = ([]); vars = []; pre = (record { opened = []; facts = ([]); locals = []; items = ((Data (Number (pos 64)) (Global name_g) (Of2 binary.Cons (Of unary.Vi (Number (pos 3))) Nil)) ∷ (Data (Number (pos 64)) (Global name_x) (Of2 binary.Cons (Of unary.Vi (Number (pos 3))) Nil)) ∷ (Data (Number (pos 64)) (Global name_l) (Of2 binary.Cons (Of unary.Vi (Number (pos 0))) Nil)) ∷ []) }); post = (record { opened = (sort.List ∷ sort.List ∷ sort.List ∷ sort.List ∷ []); facts = ((IsInt (Var 0 sort.Val)) ∷ []); locals = []; items = ((Data (Number (pos 64)) (Global name_g) (Var 1 sort.List)) ∷ (Data (Number (pos 64)) (Global name_x) (Var 2 sort.List)) ∷ (Holds (Global name_l) (record { name = name_iv; args = ([]) })) ∷ (Data (Number (pos 64)) (Global name_x) (Var 3 sort.List)) ∷ (Data (Number (pos 64)) (Global name_l) (Var 4 sort.List)) ∷ []) }) }) ∷ []) }) (record { is_void = false; name = name_main; params = ([]); vars = []; pre = (record { opened = []; facts = ([]); locals = []; items = ((Data (Number (pos 64)) (Global name_g) (Of2 binary.Cons (Of unary.Vi (Number (pos 3))) Nil)) ∷ (Data (Number (pos 64)) (Global name_x) (Of2 binary.Cons (Of unary.Vi (Number (pos 3))) Nil)) ∷ (Data (Number (pos 64)) (Global name_l) (Of2 binary.Cons (Of unary.Vi (Number (pos 0))) Nil)) ∷ []) }); post = (record { opened = (sort.List ∷ sort.List ∷ sort.List ∷ sort.List ∷ []); facts = ((IsInt (Var 0 sort.Val)) ∷ []); locals = []; items = ((Data (Number (pos 64)) (Global name_g) (Var 1 sort.List)) ∷ (Data (Number (pos 64)) (Global name_x) (Var 2 sort.List)) ∷ (Holds (Global name_l) (record { name = name_iv; args = ([]) })) ∷ (Data (Number (pos 64)) (Global name_x) (Var 3 sort.List)) ∷ (Data (Number (pos 64)) (Global name_l) (Var 4 sort.List)) ∷ []) }) }) (record { temps = (name_s ∷ name_t ∷ name_i ∷ name_x1 ∷ name_d0 ∷ name_p1 ∷ name_q1 ∷ []); body = (c.Then (c.Set 0 (c.Const 3)) (c.Then (c.Set 1 (c.Const 2)) (c.Then (c.OnLock lock.Make (c.Address (root.Global name_l 1) c.Here)) (c.Then (c.Load 0 (root.Global name_g 1) c.Here) (c.Then (c.Set 3 (c.Const 0)) (c.Then (c.Set 2 (c.Const 0)) (c.Then (c.Loop (c.Then (c.If (c.Nonzero kind.Signed (c.Binary two.Lt kind.Signed (c.Temp 2) (c.Const 3))) (c.Then (c.Set 3 (c.Binary two.Add kind.Unsigned (c.Temp 3) (c.Const 2))) (c.Then (c.Set 2 (c.Binary two.Add kind.Signed (c.Temp 2) (c.Const 1))) c.End)) (c.Then c.Break c.End)) c.End)) (c.Then (c.Load 1 (root.Global name_g 1) c.Here) (c.Then (c.Set 0 (c.Const 1)) (c.Then (c.Set 0 (c.Const 3)) (c.Then c.Skip (c.Then (c.OnLock lock.Acquire (c.Address (root.Global name_l 1) c.Here)) (c.Then (c.Store (root.Global name_x 1) c.Here (c.Const 4)) (c.Then (c.OnLock lock.Release (c.Address (root.Global name_l 1) c.Here)) (c.Then (c.OnLock lock.Acquire (c.Address (root.Global name_l 1) c.Here)) (c.Then (c.OnLock lock.Free (c.Address (root.Global name_l 1) c.Here)) (c.Then (c.Return (Some (c.Temp 1))) c.End))))))))))))))))) }) (s.Then 1 (s.Set ([]) ([])) s.NoBlock (s.Then 2 (s.Set ([]) ([])) s.NoBlock (s.Then 3 (s.MakeLock 2 (record { name = name_iv; args = ([]) }) ([]) ([])) s.NoBlock (s.Then 4 (s.Load 0 ([]) ([])) s.NoBlock (s.Then 5 (s.Set ([]) ([])) s.NoBlock (s.Then 6 (s.Set ([]) ([])) s.NoBlock (s.Then 7 (s.While (record { opened = (sort.Int ∷ sort.Int ∷ []); facts = ((Rel relation.Le (Number (pos 0)) (Var 0 sort.Int)) ∷ (Rel relation.Le (Var 0 sort.Int) (Number (pos 3))) ∷ []); locals = ((name_s, (Of unary.Vi (Number (pos 3)))) ∷ (name_t, (Of unary.Vi (Number (pos 2)))) ∷ (name_i, (Of unary.Vi (Var 0 sort.Int))) ∷ (name_x1, (Of unary.Vi (Var 1 sort.Int))) ∷ []); items = ((Data (Number (pos 64)) (Global name_g) (Of2 binary.Cons (Of unary.Vi (Number (pos 3))) Nil)) ∷ (Data (Number (pos 64)) (Global name_x) (Of2 binary.Cons (Of unary.Vi (Number (pos 3))) Nil)) ∷ (Lock (Number (pos 64)) (Global name_l) (record { name = name_iv; args = ([]) })) ∷ (Holds (Global name_l) (record { name = name_iv; args = ([]) })) ∷ []) }) (record { opened = (sort.Int ∷ sort.Int ∷ []); facts = ((Rel relation.Le (Number (pos 0)) (Var 0 sort.Int)) ∷ (Rel relation.Le (Var 0 sort.Int) (Number (pos 3))) ∷ (Rel relation.Le (Number (pos 3)) (Var 0 sort.Int)) ∷ []); locals = ((name_s, (Of unary.Vi (Number (pos 3)))) ∷ (name_t, (Of unary.Vi (Number (pos 2)))) ∷ (name_i, (Of unary.Vi (Var 0 sort.Int))) ∷ (name_x1, (Of unary.Vi (Var 1 sort.Int))) ∷ []); items = ((Data (Number (pos 64)) (Global name_g) (Of2 binary.Cons (Of unary.Vi (Number (pos 3))) Nil)) ∷ (Data (Number (pos 64)) (Global name_x) (Of2 binary.Cons (Of unary.Vi (Number (pos 3))) Nil)) ∷ (Lock (Number (pos 64)) (Global name_l) (record { name = name_iv; args = ([]) })) ∷ (Holds (Global name_l) (record { name = name_iv; args = ([]) })) ∷ []) }) (name_k3 ∷ name_k4 ∷ []) ([]) (name_k1 ∷ name_k2 ∷ [])) (s.WithBlock (s.Then 8 (s.Meet ((Number (pos 0)) ∷ (Number (pos 0)) ∷ []) ([])) s.NoBlock s.End) (s.WithBlock (s.Then 9 (s.If ([]) ((record { lines = ((line.Comb (((pos 1), 0) ∷ ((pos 1), 2) ∷ [])) ∷ []) }) ∷ (record { lines = ((line.Comb (((pos 1), 1) ∷ ((pos 1), 2) ∷ [])) ∷ []) }) ∷ []) ([]) ([])) (s.WithBlock (s.Then 10 (s.Set ([]) ([])) s.NoBlock (s.Then 11 (s.Set ([]) ((record { lines = ((line.Comb (((pos 1), 0) ∷ ((pos 1), 3) ∷ [])) ∷ []) }) ∷ (record { lines = ((line.Comb (((pos 1), 1) ∷ ((pos 1), 3) ∷ [])) ∷ []) }) ∷ (record { lines = ((line.Comb (((pos 1), 0) ∷ ((pos 1), 3) ∷ [])) ∷ []) }) ∷ (record { lines = ((line.Comb (((pos 1), 1) ∷ ((pos 1), 3) ∷ [])) ∷ []) }) ∷ [])) s.NoBlock (s.Then 12 (s.Fall ((Of2 binary.Add (Named name_k1) (Number (pos 1))) ∷ (Of2 binary.Add (Named name_k2) (Number (pos 2))) ∷ []) ((record { lines = ((line.Comb (((pos 1), 0) ∷ ((pos 1), 3) ∷ [])) ∷ []) }) ∷ [])) s.NoBlock s.End))) (s.WithBlock (s.Then 13 (s.Break ((Named name_k1) ∷ (Named name_k2) ∷ []) ([])) s.NoBlock s.End) s.NoBlock)) s.End) s.NoBlock)) (s.Then 14 (s.Load 0 ([]) ([])) s.NoBlock (s.Then 15 (s.Set ([]) ([])) s.NoBlock (s.Then 16 s.Skip s.NoBlock (s.Then 17 (s.Acquire 2 ([])) s.NoBlock (s.Then 18 (s.Unfold 5 ((name_k5 ∷ []) ∷ [])) (s.WithBlock (s.Then 19 (s.Store 1 ([]) ([])) s.NoBlock (s.Then 20 (s.Fold name_iv 0 ([]) ((Number (pos 4)) ∷ []) ([])) s.NoBlock (s.Then 21 (s.Release 2 5 ([])) s.NoBlock (s.Then 22 (s.Acquire 1 ([])) s.NoBlock (s.Then 23 (s.Unfold 5 ((name_k6 ∷ []) ∷ [])) (s.WithBlock (s.Then 24 (s.FreeLock 1 2 ([]) ([])) s.NoBlock (s.Then 25 (s.Return ((Of2 binary.Cons (Of unary.Vi (Number (pos 3))) Nil) ∷ (Of2 binary.Cons (Of unary.Vi (Named name_k5)) Nil) ∷ (Of2 binary.Cons (Of unary.Vi (Named name_k6)) Nil) ∷ (Of2 binary.Cons Undef Nil) ∷ []) ([]) ([])) s.NoBlock s.End)) s.NoBlock) s.End))))) s.NoBlock) s.End)))))))))))) ≡ (RefusedAt 16 1 1)
unfolding computing
random_664 = refl

random_665 : body_verdict (record { predicates = ((record { name = name_iv; args = ([]); cases = ((record { opened = (sort.Int ∷ []); facts = ((Rel relation.Le (Number (pos 0)) (Var 0 sort.Int)) ∷ (Rel relation.Le (Var 0 sort.Int) (Number (pos 50))) ∷ []); locals = []; items = ((Data (Number (pos 64)) (Global name_x) (Of2 binary.Cons (Of unary.Vi (Var 0 sort.Int)) Nil)) ∷ []) }) ∷ []) }) ∷ []); specs = ((record { is_void = false; name = name_main; params = ([]); vars = []; pre = (record { opened = []; facts = ([]); locals = []; items = ((Data (Number (pos 64)) (Global name_g) (Of2 binary.Cons (Of unary.Vi (Number (pos 3))) Nil)) ∷ (Data (Number (pos 64)) (Global name_x) (Of2 binary.Cons (Of unary.Vi (Number (pos 3))) Nil)) ∷ (Data (Number (pos 64)) (Global name_l) (Of2 binary.Cons (Of unary.Vi (Number (pos 0))) Nil)) ∷ []) }); post = (record { opened = (sort.List ∷ sort.List ∷ sort.List ∷ sort.List ∷ []); facts = ((IsInt (Var 0 sort.Val)) ∷ []); locals = []; items = ((Data (Number (pos 64)) (Global name_g) (Var 1 sort.List)) ∷ (Data (Number (pos 64)) (Global name_x) (Var 2 sort.List)) ∷ (Holds (Global name_l) (record { name = name_iv; args = ([]) })) ∷ (Data (Number (pos 64)) (Global name_x) (Var 3 sort.List)) ∷ (Data (Number (pos 64)) (Global name_l) (Var 4 sort.List)) ∷ []) }) }) ∷ []) }) (record { is_void = false; name = name_main; params = ([]); vars = []; pre = (record { opened = []; facts = ([]); locals = []; items = ((Data (Number (pos 64)) (Global name_g) (Of2 binary.Cons (Of unary.Vi (Number (pos 3))) Nil)) ∷ (Data (Number (pos 64)) (Global name_x) (Of2 binary.Cons (Of unary.Vi (Number (pos 3))) Nil)) ∷ (Data (Number (pos 64)) (Global name_l) (Of2 binary.Cons (Of unary.Vi (Number (pos 0))) Nil)) ∷ []) }); post = (record { opened = (sort.List ∷ sort.List ∷ sort.List ∷ sort.List ∷ []); facts = ((IsInt (Var 0 sort.Val)) ∷ []); locals = []; items = ((Data (Number (pos 64)) (Global name_g) (Var 1 sort.List)) ∷ (Data (Number (pos 64)) (Global name_x) (Var 2 sort.List)) ∷ (Holds (Global name_l) (record { name = name_iv; args = ([]) })) ∷ (Data (Number (pos 64)) (Global name_x) (Var 3 sort.List)) ∷ (Data (Number (pos 64)) (Global name_l) (Var 4 sort.List)) ∷ []) }) }) (record { temps = (name_s ∷ name_t ∷ name_i ∷ name_x1 ∷ name_d0 ∷ name_p1 ∷ name_q1 ∷ []); body = (c.Then (c.Set 0 (c.Const 3)) (c.Then (c.Set 1 (c.Const 2)) (c.Then (c.OnLock lock.Make (c.Address (root.Global name_l 1) c.Here)) (c.Then (c.Load 0 (root.Global name_g 1) c.Here) (c.Then (c.Set 3 (c.Const 0)) (c.Then (c.Set 2 (c.Const 0)) (c.Then (c.Loop (c.Then (c.If (c.Nonzero kind.Signed (c.Binary two.Lt kind.Signed (c.Temp 2) (c.Const 3))) (c.Then (c.Set 3 (c.Binary two.Add kind.Unsigned (c.Temp 3) (c.Const 2))) (c.Then (c.Set 2 (c.Binary two.Add kind.Signed (c.Temp 2) (c.Const 1))) c.End)) (c.Then c.Break c.End)) c.End)) (c.Then (c.Load 1 (root.Global name_g 1) c.Here) (c.Then (c.Set 0 (c.Const 1)) (c.Then (c.Set 0 (c.Const 3)) (c.Then c.Skip (c.Then (c.OnLock lock.Acquire (c.Address (root.Global name_l 1) c.Here)) (c.Then (c.Store (root.Global name_x 1) c.Here (c.Const 4)) (c.Then (c.OnLock lock.Release (c.Address (root.Global name_l 1) c.Here)) (c.Then (c.OnLock lock.Acquire (c.Address (root.Global name_l 1) c.Here)) (c.Then (c.OnLock lock.Free (c.Address (root.Global name_l 1) c.Here)) (c.Then (c.Return (Some (c.Temp 1))) c.End))))))))))))))))) }) (s.Then 1 (s.Set ([]) ([])) s.NoBlock (s.Then 2 (s.Set ([]) ([])) s.NoBlock (s.Then 3 (s.MakeLock 2 (record { name = name_iv; args = ([]) }) ([]) ([])) s.NoBlock (s.Then 4 (s.Load 0 ([]) ([])) s.NoBlock (s.Then 5 (s.Set ([]) ([])) s.NoBlock (s.Then 6 (s.Set ([]) ([])) s.NoBlock (s.Then 7 (s.While (record { opened = (sort.Int ∷ sort.Int ∷ []); facts = ((Rel relation.Le (Number (pos 0)) (Var 0 sort.Int)) ∷ (Rel relation.Le (Var 0 sort.Int) (Number (pos 3))) ∷ []); locals = ((name_s, (Of unary.Vi (Number (pos 4)))) ∷ (name_t, (Of unary.Vi (Number (pos 2)))) ∷ (name_i, (Of unary.Vi (Var 0 sort.Int))) ∷ (name_x1, (Of unary.Vi (Var 1 sort.Int))) ∷ []); items = ((Data (Number (pos 64)) (Global name_g) (Of2 binary.Cons (Of unary.Vi (Number (pos 3))) Nil)) ∷ (Data (Number (pos 64)) (Global name_x) (Of2 binary.Cons (Of unary.Vi (Number (pos 3))) Nil)) ∷ (Lock (Number (pos 64)) (Global name_l) (record { name = name_iv; args = ([]) })) ∷ (Holds (Global name_l) (record { name = name_iv; args = ([]) })) ∷ []) }) (record { opened = (sort.Int ∷ sort.Int ∷ []); facts = ((Rel relation.Le (Number (pos 0)) (Var 0 sort.Int)) ∷ (Rel relation.Le (Var 0 sort.Int) (Number (pos 3))) ∷ (Rel relation.Le (Number (pos 3)) (Var 0 sort.Int)) ∷ []); locals = ((name_s, (Of unary.Vi (Number (pos 3)))) ∷ (name_t, (Of unary.Vi (Number (pos 2)))) ∷ (name_i, (Of unary.Vi (Var 0 sort.Int))) ∷ (name_x1, (Of unary.Vi (Var 1 sort.Int))) ∷ []); items = ((Data (Number (pos 64)) (Global name_g) (Of2 binary.Cons (Of unary.Vi (Number (pos 3))) Nil)) ∷ (Data (Number (pos 64)) (Global name_x) (Of2 binary.Cons (Of unary.Vi (Number (pos 3))) Nil)) ∷ (Lock (Number (pos 64)) (Global name_l) (record { name = name_iv; args = ([]) })) ∷ (Holds (Global name_l) (record { name = name_iv; args = ([]) })) ∷ []) }) (name_k3 ∷ name_k4 ∷ []) ([]) (name_k1 ∷ name_k2 ∷ [])) (s.WithBlock (s.Then 8 (s.Meet ((Number (pos 0)) ∷ (Number (pos 0)) ∷ []) ([])) s.NoBlock s.End) (s.WithBlock (s.Then 9 (s.If ([]) ((record { lines = ((line.Comb (((pos 1), 0) ∷ ((pos 1), 2) ∷ [])) ∷ []) }) ∷ (record { lines = ((line.Comb (((pos 1), 1) ∷ ((pos 1), 2) ∷ [])) ∷ []) }) ∷ []) ([]) ([])) (s.WithBlock (s.Then 10 (s.Set ([]) ([])) s.NoBlock (s.Then 11 (s.Set ([]) ((record { lines = ((line.Comb (((pos 1), 0) ∷ ((pos 1), 3) ∷ [])) ∷ []) }) ∷ (record { lines = ((line.Comb (((pos 1), 1) ∷ ((pos 1), 3) ∷ [])) ∷ []) }) ∷ (record { lines = ((line.Comb (((pos 1), 0) ∷ ((pos 1), 3) ∷ [])) ∷ []) }) ∷ (record { lines = ((line.Comb (((pos 1), 1) ∷ ((pos 1), 3) ∷ [])) ∷ []) }) ∷ [])) s.NoBlock (s.Then 12 (s.Fall ((Of2 binary.Add (Named name_k1) (Number (pos 1))) ∷ (Of2 binary.Add (Named name_k2) (Number (pos 2))) ∷ []) ((record { lines = ((line.Comb (((pos 1), 0) ∷ ((pos 1), 3) ∷ [])) ∷ []) }) ∷ [])) s.NoBlock s.End))) (s.WithBlock (s.Then 13 (s.Break ((Named name_k1) ∷ (Named name_k2) ∷ []) ([])) s.NoBlock s.End) s.NoBlock)) s.End) s.NoBlock)) (s.Then 14 (s.Load 0 ([]) ([])) s.NoBlock (s.Then 15 (s.Set ([]) ([])) s.NoBlock (s.Then 16 (s.Set ([]) ([])) s.NoBlock (s.Then 17 s.Skip s.NoBlock (s.Then 18 (s.Acquire 2 ([])) s.NoBlock (s.Then 19 (s.Unfold 5 ((name_k5 ∷ []) ∷ [])) (s.WithBlock (s.Then 20 (s.Store 1 ([]) ([])) s.NoBlock (s.Then 21 (s.Fold name_iv 0 ([]) ((Number (pos 4)) ∷ []) ([])) s.NoBlock (s.Then 22 (s.Release 2 5 ([])) s.NoBlock (s.Then 23 (s.Acquire 1 ([])) s.NoBlock (s.Then 24 (s.Unfold 5 ((name_k6 ∷ []) ∷ [])) (s.WithBlock (s.Then 25 (s.FreeLock 1 2 ([]) ([])) s.NoBlock (s.Then 26 (s.Return ((Of2 binary.Cons (Of unary.Vi (Number (pos 3))) Nil) ∷ (Of2 binary.Cons (Of unary.Vi (Named name_k5)) Nil) ∷ (Of2 binary.Cons (Of unary.Vi (Named name_k6)) Nil) ∷ (Of2 binary.Cons Undef Nil) ∷ []) ([]) ([])) s.NoBlock s.End)) s.NoBlock) s.End))))) s.NoBlock) s.End))))))))))))) ≡ (RefusedAt 8 37 4)
unfolding computing
random_665 = refl

random_666 : body_verdict (record { predicates = ((record { name = name_iv; args = ([]); cases = ((record { opened = (sort.Int ∷ []); facts = ((Rel relation.Le (Number (pos 0)) (Var 0 sort.Int)) ∷ (Rel relation.Le (Var 0 sort.Int) (Number (pos 50))) ∷ []); locals = []; items = ((Data (Number (pos 64)) (Global name_x) (Of2 binary.Cons (Of unary.Vi (Var 0 sort.Int)) Nil)) ∷ []) }) ∷ []) }) ∷ []); specs = ((record { is_void = false; name = name_main; params = ([]); vars = []; pre = (record { opened = []; facts = ([]); locals = []; items = ((Data (Number (pos 64)) (Global name_g) (Of2 binary.Cons (Of unary.Vi (Number (pos 3))) Nil)) ∷ (Data (Number (pos 64)) (Global name_x) (Of2 binary.Cons (Of unary.Vi (Number (pos 3))) Nil)) ∷ (Data (Number (pos 64)) (Global name_l) (Of2 binary.Cons (Of unary.Vi (Number (pos 0))) Nil)) ∷ []) }); post = (record { opened = (sort.List ∷ sort.List ∷ sort.List ∷ sort.List ∷ []); facts = ((IsInt (Var 0 sort.Val)) ∷ []); locals = []; items = ((Data (Number (pos 64)) (Global name_g) (Var 1 sort.List)) ∷ (Data (Number (pos 3)) (Global name_x) (Var 2 sort.List)) ∷ (Holds (Global name_l) (record { name = name_iv; args = ([]) })) ∷ (Data (Number (pos 64)) (Global name_x) (Var 3 sort.List)) ∷ (Data (Number (pos 64)) (Global name_l) (Var 4 sort.List)) ∷ []) }) }) ∷ []) }) (record { is_void = false; name = name_main; params = ([]); vars = []; pre = (record { opened = []; facts = ([]); locals = []; items = ((Data (Number (pos 64)) (Global name_g) (Of2 binary.Cons (Of unary.Vi (Number (pos 3))) Nil)) ∷ (Data (Number (pos 64)) (Global name_x) (Of2 binary.Cons (Of unary.Vi (Number (pos 3))) Nil)) ∷ (Data (Number (pos 64)) (Global name_l) (Of2 binary.Cons (Of unary.Vi (Number (pos 0))) Nil)) ∷ []) }); post = (record { opened = (sort.List ∷ sort.List ∷ sort.List ∷ sort.List ∷ []); facts = ((IsInt (Var 0 sort.Val)) ∷ []); locals = []; items = ((Data (Number (pos 64)) (Global name_g) (Var 1 sort.List)) ∷ (Data (Number (pos 3)) (Global name_x) (Var 2 sort.List)) ∷ (Holds (Global name_l) (record { name = name_iv; args = ([]) })) ∷ (Data (Number (pos 64)) (Global name_x) (Var 3 sort.List)) ∷ (Data (Number (pos 64)) (Global name_l) (Var 4 sort.List)) ∷ []) }) }) (record { temps = (name_s ∷ name_t ∷ name_i ∷ name_x1 ∷ name_d0 ∷ name_p1 ∷ name_q1 ∷ []); body = (c.Then (c.Set 0 (c.Const 3)) (c.Then (c.Set 1 (c.Const 2)) (c.Then (c.OnLock lock.Make (c.Address (root.Global name_l 1) c.Here)) (c.Then (c.Load 0 (root.Global name_g 1) c.Here) (c.Then (c.Set 3 (c.Const 0)) (c.Then (c.Set 2 (c.Const 0)) (c.Then (c.Loop (c.Then (c.If (c.Nonzero kind.Signed (c.Binary two.Lt kind.Signed (c.Temp 2) (c.Const 3))) (c.Then (c.Set 3 (c.Binary two.Add kind.Unsigned (c.Temp 3) (c.Const 2))) (c.Then (c.Set 2 (c.Binary two.Add kind.Signed (c.Temp 2) (c.Const 1))) c.End)) (c.Then c.Break c.End)) c.End)) (c.Then (c.Load 1 (root.Global name_g 1) c.Here) (c.Then (c.Set 0 (c.Const 1)) (c.Then (c.Set 0 (c.Const 3)) (c.Then c.Skip (c.Then (c.OnLock lock.Acquire (c.Address (root.Global name_l 1) c.Here)) (c.Then (c.Store (root.Global name_x 1) c.Here (c.Const 4)) (c.Then (c.OnLock lock.Release (c.Address (root.Global name_l 1) c.Here)) (c.Then (c.OnLock lock.Acquire (c.Address (root.Global name_l 1) c.Here)) (c.Then (c.OnLock lock.Free (c.Address (root.Global name_l 1) c.Here)) (c.Then (c.Return (Some (c.Temp 1))) c.End))))))))))))))))) }) (s.Then 1 (s.Set ([]) ([])) s.NoBlock (s.Then 2 (s.Set ([]) ([])) s.NoBlock (s.Then 3 (s.MakeLock 2 (record { name = name_iv; args = ([]) }) ([]) ([])) s.NoBlock (s.Then 4 (s.Load 0 ([]) ([])) s.NoBlock (s.Then 5 (s.Set ([]) ([])) s.NoBlock (s.Then 6 (s.Set ([]) ([])) s.NoBlock (s.Then 7 (s.While (record { opened = (sort.Int ∷ sort.Int ∷ []); facts = ((Rel relation.Le (Number (pos 0)) (Var 0 sort.Int)) ∷ (Rel relation.Le (Var 0 sort.Int) (Number (pos 3))) ∷ []); locals = ((name_s, (Of unary.Vi (Number (pos 3)))) ∷ (name_t, (Of unary.Vi (Number (pos 2)))) ∷ (name_i, (Of unary.Vi (Var 0 sort.Int))) ∷ (name_x1, (Of unary.Vi (Var 1 sort.Int))) ∷ []); items = ((Data (Number (pos 64)) (Global name_g) (Of2 binary.Cons (Of unary.Vi (Number (pos 3))) Nil)) ∷ (Data (Number (pos 64)) (Global name_x) (Of2 binary.Cons (Of unary.Vi (Number (pos 3))) Nil)) ∷ (Lock (Number (pos 64)) (Global name_l) (record { name = name_iv; args = ([]) })) ∷ (Holds (Global name_l) (record { name = name_iv; args = ([]) })) ∷ []) }) (record { opened = (sort.Int ∷ sort.Int ∷ []); facts = ((Rel relation.Le (Number (pos 0)) (Var 0 sort.Int)) ∷ (Rel relation.Le (Var 0 sort.Int) (Number (pos 3))) ∷ (Rel relation.Le (Number (pos 3)) (Var 0 sort.Int)) ∷ []); locals = ((name_s, (Of unary.Vi (Number (pos 3)))) ∷ (name_t, (Of unary.Vi (Number (pos 2)))) ∷ (name_i, (Of unary.Vi (Var 0 sort.Int))) ∷ (name_x1, (Of unary.Vi (Var 1 sort.Int))) ∷ []); items = ((Data (Number (pos 64)) (Global name_g) (Of2 binary.Cons (Of unary.Vi (Number (pos 3))) Nil)) ∷ (Data (Number (pos 64)) (Global name_x) (Of2 binary.Cons (Of unary.Vi (Number (pos 3))) Nil)) ∷ (Lock (Number (pos 64)) (Global name_l) (record { name = name_iv; args = ([]) })) ∷ (Holds (Global name_l) (record { name = name_iv; args = ([]) })) ∷ []) }) (name_k3 ∷ name_k4 ∷ []) ([]) (name_k1 ∷ name_k2 ∷ [])) (s.WithBlock (s.Then 8 (s.Meet ((Number (pos 0)) ∷ (Number (pos 0)) ∷ []) ([])) s.NoBlock s.End) (s.WithBlock (s.Then 9 (s.If ([]) ((record { lines = ((line.Comb (((pos 1), 0) ∷ ((pos 1), 2) ∷ [])) ∷ []) }) ∷ (record { lines = ((line.Comb (((pos 1), 1) ∷ ((pos 1), 2) ∷ [])) ∷ []) }) ∷ []) ([]) ([])) (s.WithBlock (s.Then 10 (s.Set ([]) ([])) s.NoBlock (s.Then 11 (s.Set ([]) ((record { lines = ((line.Comb (((pos 1), 0) ∷ ((pos 1), 3) ∷ [])) ∷ []) }) ∷ (record { lines = ((line.Comb (((pos 1), 1) ∷ ((pos 1), 3) ∷ [])) ∷ []) }) ∷ (record { lines = ((line.Comb (((pos 1), 0) ∷ ((pos 1), 3) ∷ [])) ∷ []) }) ∷ (record { lines = ((line.Comb (((pos 1), 1) ∷ ((pos 1), 3) ∷ [])) ∷ []) }) ∷ [])) s.NoBlock (s.Then 12 (s.Fall ((Of2 binary.Add (Named name_k1) (Number (pos 1))) ∷ (Of2 binary.Add (Named name_k2) (Number (pos 2))) ∷ []) ((record { lines = ((line.Comb (((pos 1), 0) ∷ ((pos 1), 3) ∷ [])) ∷ []) }) ∷ [])) s.NoBlock s.End))) (s.WithBlock (s.Then 13 (s.Break ((Named name_k1) ∷ (Named name_k2) ∷ []) ([])) s.NoBlock s.End) s.NoBlock)) s.End) s.NoBlock)) (s.Then 14 (s.Load 0 ([]) ([])) s.NoBlock (s.Then 15 (s.Set ([]) ([])) s.NoBlock (s.Then 16 (s.Set ([]) ([])) s.NoBlock (s.Then 17 s.Skip s.NoBlock (s.Then 18 (s.Acquire 2 ([])) s.NoBlock (s.Then 19 (s.Unfold 5 ((name_k5 ∷ []) ∷ [])) (s.WithBlock (s.Then 20 (s.Store 1 ([]) ([])) s.NoBlock (s.Then 21 (s.Fold name_iv 0 ([]) ((Number (pos 4)) ∷ []) ([])) s.NoBlock (s.Then 22 (s.Release 2 5 ([])) s.NoBlock (s.Then 23 (s.Acquire 1 ([])) s.NoBlock (s.Then 24 (s.Unfold 5 ((name_k6 ∷ []) ∷ [])) (s.WithBlock (s.Then 25 (s.FreeLock 1 2 ([]) ([])) s.NoBlock (s.Then 26 (s.Return ((Of2 binary.Cons (Of unary.Vi (Number (pos 3))) Nil) ∷ (Of2 binary.Cons (Of unary.Vi (Named name_k5)) Nil) ∷ (Of2 binary.Cons (Of unary.Vi (Named name_k6)) Nil) ∷ (Of2 binary.Cons Undef Nil) ∷ []) ([]) ([])) s.NoBlock s.End)) s.NoBlock) s.End))))) s.NoBlock) s.End))))))))))))) ≡ (RefusedAt 26 9 5)
unfolding computing
random_666 = refl

random_667 : body_verdict (record { predicates = ((record { name = name_iv; args = ([]); cases = ((record { opened = (sort.Int ∷ []); facts = ((Rel relation.Le (Number (pos 0)) (Var 0 sort.Int)) ∷ (Rel relation.Le (Var 0 sort.Int) (Number (pos 50))) ∷ []); locals = []; items = ((Data (Number (pos 64)) (Global name_x) (Of2 binary.Cons (Of unary.Vi (Var 0 sort.Int)) Nil)) ∷ []) }) ∷ []) }) ∷ []); specs = ((record { is_void = false; name = name_main; params = ([]); vars = []; pre = (record { opened = []; facts = ([]); locals = []; items = ((Data (Number (pos 64)) (Global name_g) (Of2 binary.Cons (Of unary.Vi (Number (pos 3))) Nil)) ∷ (Data (Number (pos 64)) (Global name_x) (Of2 binary.Cons (Of unary.Vi (Number (pos 3))) Nil)) ∷ (Data (Number (pos 64)) (Global name_l) (Of2 binary.Cons (Of unary.Vi (Number (pos 0))) Nil)) ∷ []) }); post = (record { opened = (sort.List ∷ sort.List ∷ sort.List ∷ sort.List ∷ []); facts = ((IsInt (Var 0 sort.Val)) ∷ []); locals = []; items = ((Data (Number (pos 64)) (Global name_g) (Var 1 sort.List)) ∷ (Data (Number (pos 64)) (Global name_x) (Var 2 sort.List)) ∷ (Holds (Global name_l) (record { name = name_iv; args = ([]) })) ∷ (Data (Number (pos 64)) (Global name_x) (Var 3 sort.List)) ∷ (Data (Number (pos 64)) (Global name_l) (Var 4 sort.List)) ∷ []) }) }) ∷ []) }) (record { is_void = false; name = name_main; params = ([]); vars = []; pre = (record { opened = []; facts = ([]); locals = []; items = ((Data (Number (pos 64)) (Global name_g) (Of2 binary.Cons (Of unary.Vi (Number (pos 3))) Nil)) ∷ (Data (Number (pos 64)) (Global name_x) (Of2 binary.Cons (Of unary.Vi (Number (pos 3))) Nil)) ∷ (Data (Number (pos 64)) (Global name_l) (Of2 binary.Cons (Of unary.Vi (Number (pos 0))) Nil)) ∷ []) }); post = (record { opened = (sort.List ∷ sort.List ∷ sort.List ∷ sort.List ∷ []); facts = ((IsInt (Var 0 sort.Val)) ∷ []); locals = []; items = ((Data (Number (pos 64)) (Global name_g) (Var 1 sort.List)) ∷ (Data (Number (pos 64)) (Global name_x) (Var 2 sort.List)) ∷ (Holds (Global name_l) (record { name = name_iv; args = ([]) })) ∷ (Data (Number (pos 64)) (Global name_x) (Var 3 sort.List)) ∷ (Data (Number (pos 64)) (Global name_l) (Var 4 sort.List)) ∷ []) }) }) (record { temps = (name_s ∷ name_t ∷ name_i ∷ name_x1 ∷ name_d0 ∷ name_p1 ∷ name_q1 ∷ []); body = (c.Then (c.Set 0 (c.Const 3)) (c.Then (c.Set 1 (c.Const 2)) (c.Then (c.OnLock lock.Make (c.Address (root.Global name_l 1) c.Here)) (c.Then (c.Load 0 (root.Global name_g 1) c.Here) (c.Then (c.Set 3 (c.Const 0)) (c.Then (c.Set 2 (c.Const 0)) (c.Then (c.Loop (c.Then (c.If (c.Nonzero kind.Signed (c.Binary two.Lt kind.Signed (c.Temp 2) (c.Const 3))) (c.Then (c.Set 3 (c.Binary two.Add kind.Unsigned (c.Temp 3) (c.Const 2))) (c.Then (c.Set 2 (c.Binary two.Add kind.Signed (c.Temp 2) (c.Const 1))) c.End)) (c.Then c.Break c.End)) c.End)) (c.Then (c.Load 1 (root.Global name_g 1) c.Here) (c.Then (c.Set 0 (c.Const 1)) (c.Then (c.Set 0 (c.Const 3)) (c.Then c.Skip (c.Then (c.OnLock lock.Acquire (c.Address (root.Global name_l 1) c.Here)) (c.Then (c.Store (root.Global name_x 1) c.Here (c.Const 4)) (c.Then (c.OnLock lock.Release (c.Address (root.Global name_l 1) c.Here)) (c.Then (c.OnLock lock.Acquire (c.Address (root.Global name_l 1) c.Here)) (c.Then (c.OnLock lock.Free (c.Address (root.Global name_l 1) c.Here)) (c.Then (c.Return (Some (c.Temp 1))) c.End))))))))))))))))) }) (s.Then 1 (s.Set ([]) ([])) s.NoBlock (s.Then 2 (s.Set ([]) ([])) s.NoBlock (s.Then 3 (s.MakeLock 2 (record { name = name_iv; args = ([]) }) ([]) ([])) s.NoBlock (s.Then 4 (s.Load 0 ([]) ([])) s.NoBlock (s.Then 5 (s.Set ([]) ([])) s.NoBlock (s.Then 6 (s.Set ([]) ([])) s.NoBlock (s.Then 7 (s.While (record { opened = (sort.Int ∷ sort.Int ∷ []); facts = ((Rel relation.Le (Number (pos 0)) (Var 0 sort.Int)) ∷ (Rel relation.Le (Var 0 sort.Int) (Number (pos 3))) ∷ []); locals = ((name_s, (Of unary.Vi (Number (pos 3)))) ∷ (name_t, (Of unary.Vi (Number (pos 2)))) ∷ (name_i, (Of unary.Vi (Var 0 sort.Int))) ∷ (name_x1, (Of unary.Vi (Var 1 sort.Int))) ∷ []); items = ((Data (Number (pos 64)) (Global name_g) (Of2 binary.Cons (Of unary.Vi (Number (pos 3))) Nil)) ∷ (Data (Number (pos 64)) (Global name_x) (Of2 binary.Cons (Of unary.Vi (Number (pos 3))) Nil)) ∷ (Lock (Number (pos 64)) (Global name_l) (record { name = name_iv; args = ([]) })) ∷ (Holds (Global name_l) (record { name = name_iv; args = ([]) })) ∷ []) }) (record { opened = (sort.Int ∷ sort.Int ∷ []); facts = ((Rel relation.Le (Number (pos 0)) (Var 0 sort.Int)) ∷ (Rel relation.Le (Var 0 sort.Int) (Number (pos 3))) ∷ (Rel relation.Le (Number (pos 3)) (Var 0 sort.Int)) ∷ []); locals = ((name_s, (Of unary.Vi (Number (pos 3)))) ∷ (name_t, (Of unary.Vi (Number (pos 2)))) ∷ (name_i, (Of unary.Vi (Var 0 sort.Int))) ∷ (name_x1, (Of unary.Vi (Var 1 sort.Int))) ∷ []); items = ((Data (Number (pos 64)) (Global name_g) (Of2 binary.Cons (Of unary.Vi (Number (pos 3))) Nil)) ∷ (Data (Number (pos 64)) (Global name_x) (Of2 binary.Cons (Of unary.Vi (Number (pos 3))) Nil)) ∷ (Lock (Number (pos 64)) (Global name_l) (record { name = name_iv; args = ([]) })) ∷ (Holds (Global name_l) (record { name = name_iv; args = ([]) })) ∷ []) }) (name_k3 ∷ name_k4 ∷ []) ([]) (name_k1 ∷ name_k2 ∷ [])) (s.WithBlock (s.Then 8 (s.Meet ((Number (pos 0)) ∷ (Number (pos 0)) ∷ []) ([])) s.NoBlock s.End) (s.WithBlock (s.Then 9 (s.If ([]) ((record { lines = ((line.Comb (((pos 1), 0) ∷ ((pos 1), 2) ∷ [])) ∷ []) }) ∷ (record { lines = ((line.Comb (((pos 1), 1) ∷ ((pos 1), 2) ∷ [])) ∷ []) }) ∷ []) ([]) ([])) (s.WithBlock (s.Then 10 (s.Set ([]) ([])) s.NoBlock (s.Then 11 (s.Set ([]) ((record { lines = ((line.Comb (((pos 1), 0) ∷ ((pos 1), 1) ∷ [])) ∷ []) }) ∷ (record { lines = ((line.Comb (((pos 1), 1) ∷ ((pos 1), 3) ∷ [])) ∷ []) }) ∷ (record { lines = ((line.Comb (((pos 1), 0) ∷ ((pos 1), 3) ∷ [])) ∷ []) }) ∷ (record { lines = ((line.Comb (((pos 1), 1) ∷ ((pos 1), 3) ∷ [])) ∷ []) }) ∷ [])) s.NoBlock (s.Then 12 (s.Fall ((Of2 binary.Add (Named name_k1) (Number (pos 1))) ∷ (Of2 binary.Add (Named name_k2) (Number (pos 2))) ∷ []) ((record { lines = ((line.Comb (((pos 1), 0) ∷ ((pos 1), 3) ∷ [])) ∷ []) }) ∷ [])) s.NoBlock s.End))) (s.WithBlock (s.Then 13 (s.Break ((Named name_k1) ∷ (Named name_k2) ∷ []) ([])) s.NoBlock s.End) s.NoBlock)) s.End) s.NoBlock)) (s.Then 14 (s.Load 0 ([]) ([])) s.NoBlock (s.Then 15 (s.Load 0 ([]) ([])) s.NoBlock (s.Then 16 (s.Set ([]) ([])) s.NoBlock (s.Then 17 (s.Set ([]) ([])) s.NoBlock (s.Then 18 s.Skip s.NoBlock (s.Then 19 (s.Acquire 2 ([])) s.NoBlock (s.Then 20 (s.Unfold 5 ((name_k5 ∷ []) ∷ [])) (s.WithBlock (s.Then 21 (s.Store 1 ([]) ([])) s.NoBlock (s.Then 22 (s.Fold name_iv 0 ([]) ((Number (pos 4)) ∷ []) ([])) s.NoBlock (s.Then 23 (s.Release 2 5 ([])) s.NoBlock (s.Then 24 (s.Acquire 1 ([])) s.NoBlock (s.Then 25 (s.Unfold 5 ((name_k6 ∷ []) ∷ [])) (s.WithBlock (s.Then 26 (s.FreeLock 1 2 ([]) ([])) s.NoBlock (s.Then 27 (s.Return ((Of2 binary.Cons (Of unary.Vi (Number (pos 3))) Nil) ∷ (Of2 binary.Cons (Of unary.Vi (Named name_k5)) Nil) ∷ (Of2 binary.Cons (Of unary.Vi (Named name_k6)) Nil) ∷ (Of2 binary.Cons Undef Nil) ∷ []) ([]) ([])) s.NoBlock s.End)) s.NoBlock) s.End))))) s.NoBlock) s.End)))))))))))))) ≡ (RefusedAt 11 2 3)
unfolding computing
random_667 = refl

random_668 : body_verdict (record { predicates = ([]); specs = ((record { is_void = false; name = name_main; params = ([]); vars = []; pre = (record { opened = []; facts = ([]); locals = []; items = ((Data (Number (pos 64)) (Global name_arr) (Of2 binary.Cons (Of unary.Vi (Number (pos 1))) (Of2 binary.Cons (Of unary.Vi (Number (pos 2))) (Of2 binary.Cons (Of unary.Vi (Number (pos 0))) (Of2 binary.Cons (Of unary.Vi (Number (pos 0))) Nil))))) ∷ (Data (Number (pos 64)) (Global name_x) (Of2 binary.Cons (Of unary.Vi (Number (pos 3))) Nil)) ∷ []) }); post = (record { opened = []; facts = ((Rel relation.Eq (Var 0 sort.Val) (Of unary.Vi (Number (pos 3)))) ∷ []); locals = []; items = ((Data (Number (pos 64)) (Global name_arr) (Of2 binary.Cons (Of unary.Vi (Number (pos 1))) (Of2 binary.Cons (Of unary.Vi (Number (pos 2))) (Of2 binary.Cons (Of unary.Vi (Number (pos 0))) (Of2 binary.Cons (Of unary.Vi (Number (pos 0))) Nil))))) ∷ (Data (Number (pos 64)) (Global name_x) (Of2 binary.Cons (Of unary.Vi (Number (pos 3))) Nil)) ∷ []) }) }) ∷ []) }) (record { is_void = false; name = name_main; params = ([]); vars = []; pre = (record { opened = []; facts = ([]); locals = []; items = ((Data (Number (pos 64)) (Global name_arr) (Of2 binary.Cons (Of unary.Vi (Number (pos 1))) (Of2 binary.Cons (Of unary.Vi (Number (pos 2))) (Of2 binary.Cons (Of unary.Vi (Number (pos 0))) (Of2 binary.Cons (Of unary.Vi (Number (pos 0))) Nil))))) ∷ (Data (Number (pos 64)) (Global name_x) (Of2 binary.Cons (Of unary.Vi (Number (pos 3))) Nil)) ∷ []) }); post = (record { opened = []; facts = ((Rel relation.Eq (Var 0 sort.Val) (Of unary.Vi (Number (pos 3)))) ∷ []); locals = []; items = ((Data (Number (pos 64)) (Global name_arr) (Of2 binary.Cons (Of unary.Vi (Number (pos 1))) (Of2 binary.Cons (Of unary.Vi (Number (pos 2))) (Of2 binary.Cons (Of unary.Vi (Number (pos 0))) (Of2 binary.Cons (Of unary.Vi (Number (pos 0))) Nil))))) ∷ (Data (Number (pos 64)) (Global name_x) (Of2 binary.Cons (Of unary.Vi (Number (pos 3))) Nil)) ∷ []) }) }) (record { temps = (name_s ∷ name_t ∷ name_i ∷ name_x1 ∷ name_d0 ∷ name_p1 ∷ name_q1 ∷ []); body = (c.Then (c.Set 0 (c.Const 1)) (c.Then (c.Set 1 (c.Const 1)) (c.Then (c.Set 4 (c.Binary two.Div kind.Signed (c.Binary two.Add kind.Signed (c.Const 3) (c.Const 1)) (c.Temp 0))) (c.Then (c.Set 0 (c.Const 3)) (c.Then (c.Return (Some (c.Temp 0))) c.End))))) }) (s.Then 1 (s.Set ([]) ([])) s.NoBlock (s.Then 2 (s.Set ([]) ([])) s.NoBlock (s.Then 3 (s.Set ([]) ([])) s.NoBlock (s.Then 4 (s.Set ([]) ([])) s.NoBlock (s.Then 5 (s.Return ([]) ([]) ([])) s.NoBlock s.End))))) ≡ Accepted
unfolding computing
random_668 = refl

random_669 : body_verdict (record { predicates = ([]); specs = ((record { is_void = false; name = name_main; params = ([]); vars = []; pre = (record { opened = []; facts = ([]); locals = []; items = ((Data (Number (pos 64)) (Global name_arr) (Of2 binary.Cons (Of unary.Vi (Number (pos 1))) (Of2 binary.Cons (Of unary.Vi (Number (pos 2))) (Of2 binary.Cons (Of unary.Vi (Number (pos 0))) (Of2 binary.Cons (Of unary.Vi (Number (pos 0))) Nil))))) ∷ (Data (Number (pos 64)) (Global name_x) (Of2 binary.Cons (Of unary.Vi (Number (pos 3))) Nil)) ∷ []) }); post = (record { opened = []; facts = ((Rel relation.Eq (Var 0 sort.Val) (Of unary.Vi (Number (pos 3)))) ∷ []); locals = []; items = ((Data (Number (pos 64)) (Global name_arr) (Of2 binary.Cons (Of unary.Vi (Number (pos 1))) (Of2 binary.Cons (Of unary.Vi (Number (pos 2))) (Of2 binary.Cons (Of unary.Vi (Number (pos 0))) (Of2 binary.Cons (Of unary.Vi (Number (pos 0))) Nil))))) ∷ (Data (Number (pos 64)) (Global name_x) (Of2 binary.Cons (Of unary.Vi (Number (pos 3))) Nil)) ∷ []) }) }) ∷ []) }) (record { is_void = false; name = name_main; params = ([]); vars = []; pre = (record { opened = []; facts = ([]); locals = []; items = ((Data (Number (pos 64)) (Global name_arr) (Of2 binary.Cons (Of unary.Vi (Number (pos 1))) (Of2 binary.Cons (Of unary.Vi (Number (pos 2))) (Of2 binary.Cons (Of unary.Vi (Number (pos 0))) (Of2 binary.Cons (Of unary.Vi (Number (pos 0))) Nil))))) ∷ (Data (Number (pos 64)) (Global name_x) (Of2 binary.Cons (Of unary.Vi (Number (pos 3))) Nil)) ∷ []) }); post = (record { opened = []; facts = ((Rel relation.Eq (Var 0 sort.Val) (Of unary.Vi (Number (pos 3)))) ∷ []); locals = []; items = ((Data (Number (pos 64)) (Global name_arr) (Of2 binary.Cons (Of unary.Vi (Number (pos 1))) (Of2 binary.Cons (Of unary.Vi (Number (pos 2))) (Of2 binary.Cons (Of unary.Vi (Number (pos 0))) (Of2 binary.Cons (Of unary.Vi (Number (pos 0))) Nil))))) ∷ (Data (Number (pos 64)) (Global name_x) (Of2 binary.Cons (Of unary.Vi (Number (pos 3))) Nil)) ∷ []) }) }) (record { temps = (name_s ∷ name_t ∷ name_i ∷ name_x1 ∷ name_d0 ∷ name_p1 ∷ name_q1 ∷ []); body = (c.Then (c.Set 0 (c.Const 1)) (c.Then (c.Set 1 (c.Const 1)) (c.Then (c.Set 4 (c.Binary two.Div kind.Signed (c.Binary two.Add kind.Signed (c.Const 3) (c.Const 1)) (c.Temp 0))) (c.Then (c.Set 0 (c.Const 3)) (c.Then (c.Return (Some (c.Temp 0))) c.End))))) }) (s.Then 1 (s.Set ([]) ([])) s.NoBlock (s.Then 2 (s.Set ([]) ([])) s.NoBlock (s.Then 3 (s.Set ([]) ([])) s.NoBlock (s.Then 4 (s.Return ([]) ([]) ([])) s.NoBlock s.End)))) ≡ (RefusedAt 4 9 1)
unfolding computing
random_669 = refl

random_670 : body_verdict (record { predicates = ([]); specs = ((record { is_void = false; name = name_main; params = ([]); vars = []; pre = (record { opened = []; facts = ([]); locals = []; items = ((Data (Number (pos 64)) (Global name_arr) (Of2 binary.Cons (Of unary.Vi (Number (pos 1))) (Of2 binary.Cons (Of unary.Vi (Number (pos 2))) (Of2 binary.Cons (Of unary.Vi (Number (pos 0))) (Of2 binary.Cons (Of unary.Vi (Number (pos 0))) Nil))))) ∷ (Data (Number (pos 64)) (Global name_x) (Of2 binary.Cons (Of unary.Vi (Number (pos 3))) Nil)) ∷ []) }); post = (record { opened = []; facts = ((Rel relation.Eq (Var 0 sort.Val) (Of unary.Vi (Number (pos 3)))) ∷ []); locals = []; items = ((Data (Number (pos 64)) (Global name_arr) (Of2 binary.Cons (Of unary.Vi (Number (pos 1))) (Of2 binary.Cons (Of unary.Vi (Number (pos 2))) (Of2 binary.Cons (Of unary.Vi (Number (pos 0))) (Of2 binary.Cons (Of unary.Vi (Number (pos 0))) Nil))))) ∷ (Data (Number (pos 64)) (Global name_x) (Of2 binary.Cons (Of unary.Vi (Number (pos 3))) Nil)) ∷ []) }) }) ∷ []) }) (record { is_void = false; name = name_main; params = ([]); vars = []; pre = (record { opened = []; facts = ([]); locals = []; items = ((Data (Number (pos 64)) (Global name_arr) (Of2 binary.Cons (Of unary.Vi (Number (pos 1))) (Of2 binary.Cons (Of unary.Vi (Number (pos 2))) (Of2 binary.Cons (Of unary.Vi (Number (pos 0))) (Of2 binary.Cons (Of unary.Vi (Number (pos 0))) Nil))))) ∷ (Data (Number (pos 64)) (Global name_x) (Of2 binary.Cons (Of unary.Vi (Number (pos 3))) Nil)) ∷ []) }); post = (record { opened = []; facts = ((Rel relation.Eq (Var 0 sort.Val) (Of unary.Vi (Number (pos 3)))) ∷ []); locals = []; items = ((Data (Number (pos 64)) (Global name_arr) (Of2 binary.Cons (Of unary.Vi (Number (pos 1))) (Of2 binary.Cons (Of unary.Vi (Number (pos 2))) (Of2 binary.Cons (Of unary.Vi (Number (pos 0))) (Of2 binary.Cons (Of unary.Vi (Number (pos 0))) Nil))))) ∷ (Data (Number (pos 64)) (Global name_x) (Of2 binary.Cons (Of unary.Vi (Number (pos 3))) Nil)) ∷ []) }) }) (record { temps = (name_s ∷ name_t ∷ name_i ∷ name_x1 ∷ name_d0 ∷ name_p1 ∷ name_q1 ∷ []); body = (c.Then (c.Set 0 (c.Const 1)) (c.Then (c.Set 1 (c.Const 1)) (c.Then (c.Set 4 (c.Binary two.Div kind.Signed (c.Binary two.Add kind.Signed (c.Const 3) (c.Const 1)) (c.Temp 0))) (c.Then (c.Set 0 (c.Const 3)) (c.Then (c.Return (Some (c.Temp 0))) c.End))))) }) (s.Then 1 (s.Set ([]) ([])) s.NoBlock (s.Then 2 (s.Set ([]) ([])) s.NoBlock (s.Then 3 (s.Set ([]) ([])) s.NoBlock (s.Then 4 (s.Set ([]) ([])) s.NoBlock (s.Then 5 (s.Set ([]) ([])) s.NoBlock (s.Then 6 (s.Return ([]) ([]) ([])) s.NoBlock s.End)))))) ≡ (RefusedAt 5 2 1)
unfolding computing
random_670 = refl

random_671 : body_verdict (record { predicates = ([]); specs = ((record { is_void = false; name = name_main; params = ([]); vars = []; pre = (record { opened = []; facts = ([]); locals = []; items = ((Data (Number (pos 64)) (Global name_arr) (Of2 binary.Cons (Of unary.Vi (Number (pos 1))) (Of2 binary.Cons (Of unary.Vi (Number (pos 2))) (Of2 binary.Cons (Of unary.Vi (Number (pos 0))) (Of2 binary.Cons (Of unary.Vi (Number (pos 0))) Nil))))) ∷ (Data (Number (pos 64)) (Global name_x) (Of2 binary.Cons (Of unary.Vi (Number (pos 3))) Nil)) ∷ []) }); post = (record { opened = []; facts = ((Rel relation.Eq (Var 0 sort.Val) (Of unary.Vi (Number (pos 3)))) ∷ []); locals = []; items = ((Data (Number (pos 64)) (Global name_arr) (Of2 binary.Cons (Of unary.Vi (Number (pos 1))) (Of2 binary.Cons (Of unary.Vi (Number (pos 2))) (Of2 binary.Cons (Of unary.Vi (Number (pos 0))) (Of2 binary.Cons (Of unary.Vi (Number (pos 0))) Nil))))) ∷ (Data (Number (pos 64)) (Global name_x) (Of2 binary.Cons (Of unary.Vi (Number (pos 3))) Nil)) ∷ []) }) }) ∷ []) }) (record { is_void = false; name = name_main; params = ([]); vars = []; pre = (record { opened = []; facts = ([]); locals = []; items = ((Data (Number (pos 64)) (Global name_arr) (Of2 binary.Cons (Of unary.Vi (Number (pos 1))) (Of2 binary.Cons (Of unary.Vi (Number (pos 2))) (Of2 binary.Cons (Of unary.Vi (Number (pos 0))) (Of2 binary.Cons (Of unary.Vi (Number (pos 0))) Nil))))) ∷ (Data (Number (pos 64)) (Global name_x) (Of2 binary.Cons (Of unary.Vi (Number (pos 3))) Nil)) ∷ []) }); post = (record { opened = []; facts = ((Rel relation.Eq (Var 0 sort.Val) (Of unary.Vi (Number (pos 3)))) ∷ []); locals = []; items = ((Data (Number (pos 64)) (Global name_arr) (Of2 binary.Cons (Of unary.Vi (Number (pos 1))) (Of2 binary.Cons (Of unary.Vi (Number (pos 2))) (Of2 binary.Cons (Of unary.Vi (Number (pos 0))) (Of2 binary.Cons (Of unary.Vi (Number (pos 0))) Nil))))) ∷ (Data (Number (pos 64)) (Global name_x) (Of2 binary.Cons (Of unary.Vi (Number (pos 3))) Nil)) ∷ []) }) }) (record { temps = (name_s ∷ name_t ∷ name_i ∷ name_x1 ∷ name_d0 ∷ name_p1 ∷ name_q1 ∷ []); body = (c.Then (c.Set 0 (c.Const 1)) (c.Then (c.Set 1 (c.Const 1)) (c.Then (c.Set 4 (c.Binary two.Div kind.Signed (c.Binary two.Add kind.Signed (c.Const 3) (c.Const 1)) (c.Temp 0))) (c.Then (c.Set 0 (c.Const 3)) (c.Then (c.Return (Some (c.Temp 0))) c.End))))) }) (s.Then 1 (s.Set ([]) ([])) s.NoBlock (s.Then 2 (s.Set ([]) ([])) s.NoBlock (s.Then 3 (s.Set ([]) ([])) s.NoBlock (s.Then 4 (s.Set ([]) ([])) s.NoBlock s.End)))) ≡ (RefusedAt 5 0 10)
unfolding computing
random_671 = refl

random_672 : body_verdict (record { predicates = ([]); specs = ((record { is_void = false; name = name_main; params = ([]); vars = []; pre = (record { opened = []; facts = ([]); locals = []; items = ((Data (Number (pos 64)) (Global name_arr) (Of2 binary.Cons (Of unary.Vi (Number (pos 1))) (Of2 binary.Cons (Of unary.Vi (Number (pos 2))) (Of2 binary.Cons (Of unary.Vi (Number (pos 0))) (Of2 binary.Cons (Of unary.Vi (Number (pos 0))) Nil))))) ∷ (Data (Number (pos 64)) (Global name_x) (Of2 binary.Cons (Of unary.Vi (Number (pos 3))) Nil)) ∷ []) }); post = (record { opened = []; facts = ((Rel relation.Eq (Var 0 sort.Val) (Of unary.Vi (Number (pos 3)))) ∷ []); locals = []; items = ((Data (Number (pos 64)) (Global name_arr) (Of2 binary.Cons (Of unary.Vi (Number (pos 1))) (Of2 binary.Cons (Of unary.Vi (Number (pos 2))) (Of2 binary.Cons (Of unary.Vi (Number (pos 0))) (Of2 binary.Cons (Of unary.Vi (Number (pos 0))) Nil))))) ∷ (Data (Number (pos 64)) (Global name_x) (Of2 binary.Cons (Of unary.Vi (Number (pos 3))) Nil)) ∷ []) }) }) ∷ []) }) (record { is_void = false; name = name_main; params = ([]); vars = []; pre = (record { opened = []; facts = ([]); locals = []; items = ((Data (Number (pos 64)) (Global name_arr) (Of2 binary.Cons (Of unary.Vi (Number (pos 1))) (Of2 binary.Cons (Of unary.Vi (Number (pos 2))) (Of2 binary.Cons (Of unary.Vi (Number (pos 0))) (Of2 binary.Cons (Of unary.Vi (Number (pos 0))) Nil))))) ∷ (Data (Number (pos 64)) (Global name_x) (Of2 binary.Cons (Of unary.Vi (Number (pos 3))) Nil)) ∷ []) }); post = (record { opened = []; facts = ((Rel relation.Eq (Var 0 sort.Val) (Of unary.Vi (Number (pos 3)))) ∷ []); locals = []; items = ((Data (Number (pos 64)) (Global name_arr) (Of2 binary.Cons (Of unary.Vi (Number (pos 1))) (Of2 binary.Cons (Of unary.Vi (Number (pos 2))) (Of2 binary.Cons (Of unary.Vi (Number (pos 0))) (Of2 binary.Cons (Of unary.Vi (Number (pos 0))) Nil))))) ∷ (Data (Number (pos 64)) (Global name_x) (Of2 binary.Cons (Of unary.Vi (Number (pos 3))) Nil)) ∷ []) }) }) (record { temps = (name_s ∷ name_t ∷ name_i ∷ name_x1 ∷ name_d0 ∷ name_p1 ∷ name_q1 ∷ []); body = (c.Then (c.Set 0 (c.Const 1)) (c.Then (c.Set 1 (c.Const 1)) (c.Then (c.Set 4 (c.Binary two.Div kind.Signed (c.Binary two.Add kind.Signed (c.Const 3) (c.Const 1)) (c.Temp 0))) (c.Then (c.Set 0 (c.Const 3)) (c.Then (c.Return (Some (c.Temp 0))) c.End))))) }) (s.Then 1 (s.Set ([]) ([])) s.NoBlock (s.Then 2 (s.Set ([]) ([])) s.NoBlock (s.Then 3 (s.Set ([]) ([])) s.NoBlock (s.Then 4 (s.Set ([]) ([])) s.NoBlock (s.Then 5 (s.Set ([]) ([])) s.NoBlock s.End))))) ≡ (RefusedAt 5 2 1)
unfolding computing
random_672 = refl

random_673 : body_verdict (record { predicates = ([]); specs = ((record { is_void = false; name = name_main; params = ([]); vars = []; pre = (record { opened = []; facts = ([]); locals = []; items = ((Data (Number (pos 64)) (Global name_arr) (Of2 binary.Cons (Of unary.Vi (Number (pos 1))) (Of2 binary.Cons (Of unary.Vi (Number (pos 2))) (Of2 binary.Cons (Of unary.Vi (Number (pos 0))) (Of2 binary.Cons (Of unary.Vi (Number (pos 0))) Nil))))) ∷ (Data (Number (pos 64)) (Global name_x) (Of2 binary.Cons (Of unary.Vi (Number (pos 3))) Nil)) ∷ []) }); post = (record { opened = []; facts = ((Rel relation.Eq (Var 0 sort.Val) (Of unary.Vi (Number (pos 3)))) ∷ []); locals = []; items = ((Data (Number (pos 64)) (Global name_arr) (Of2 binary.Cons (Of unary.Vi (Number (pos 1))) (Of2 binary.Cons (Of unary.Vi (Number (pos 2))) (Of2 binary.Cons (Of unary.Vi (Number (pos 0))) (Of2 binary.Cons (Of unary.Vi (Number (pos 0))) Nil))))) ∷ (Data (Number (pos 64)) (Global name_x) (Of2 binary.Cons (Of unary.Vi (Number (pos 3))) Nil)) ∷ []) }) }) ∷ []) }) (record { is_void = false; name = name_main; params = ([]); vars = []; pre = (record { opened = []; facts = ([]); locals = []; items = ((Data (Number (pos 64)) (Global name_arr) (Of2 binary.Cons (Of unary.Vi (Number (pos 1))) (Of2 binary.Cons (Of unary.Vi (Number (pos 2))) (Of2 binary.Cons (Of unary.Vi (Number (pos 0))) (Of2 binary.Cons (Of unary.Vi (Number (pos 0))) Nil))))) ∷ (Data (Number (pos 64)) (Global name_x) (Of2 binary.Cons (Of unary.Vi (Number (pos 3))) Nil)) ∷ []) }); post = (record { opened = []; facts = ((Rel relation.Eq (Var 0 sort.Val) (Of unary.Vi (Number (pos 3)))) ∷ []); locals = []; items = ((Data (Number (pos 64)) (Global name_arr) (Of2 binary.Cons (Of unary.Vi (Number (pos 1))) (Of2 binary.Cons (Of unary.Vi (Number (pos 2))) (Of2 binary.Cons (Of unary.Vi (Number (pos 0))) (Of2 binary.Cons (Of unary.Vi (Number (pos 0))) Nil))))) ∷ (Data (Number (pos 64)) (Global name_x) (Of2 binary.Cons (Of unary.Vi (Number (pos 3))) Nil)) ∷ []) }) }) (record { temps = (name_s ∷ name_t ∷ name_i ∷ name_x1 ∷ name_d0 ∷ name_p1 ∷ name_q1 ∷ []); body = (c.Then (c.Set 0 (c.Const 1)) (c.Then (c.Set 1 (c.Const 1)) (c.Then (c.Set 4 (c.Binary two.Div kind.Signed (c.Binary two.Add kind.Signed (c.Const 3) (c.Const 1)) (c.Temp 0))) (c.Then (c.Set 0 (c.Const 3)) (c.Then (c.Return (Some (c.Temp 0))) c.End))))) }) (s.Then 1 (s.Set ([]) ([])) s.NoBlock (s.Then 2 (s.Set ([]) ([])) s.NoBlock (s.Then 3 (s.Set ([]) ([])) s.NoBlock (s.Then 4 (s.Absurd ([])) s.NoBlock (s.Then 5 (s.Return ([]) ([]) ([])) s.NoBlock s.End))))) ≡ (RefusedAt 4 24 3)
unfolding computing
random_673 = refl

random_674 : body_verdict (record { predicates = ((record { name = name_E; args = ([]); cases = ((record { opened = []; facts = ([]); locals = []; items = ([]) }) ∷ []) }) ∷ []); specs = ((record { is_void = true; name = name_f; params = ([]); vars = []; pre = (record { opened = []; facts = ([]); locals = []; items = ([]) }); post = (record { opened = []; facts = ([]); locals = []; items = ([]) }) }) ∷ (record { is_void = false; name = name_main; params = ([]); vars = []; pre = (record { opened = []; facts = ([]); locals = []; items = ([]) }); post = (record { opened = []; facts = ((Rel relation.Eq (Var 0 sort.Val) (Of unary.Vi (Number (pos 0)))) ∷ []); locals = []; items = ([]) }) }) ∷ []) }) (record { is_void = true; name = name_f; params = ([]); vars = []; pre = (record { opened = []; facts = ([]); locals = []; items = ([]) }); post = (record { opened = []; facts = ([]); locals = []; items = ([]) }) }) (record { temps = (name_s ∷ name_t ∷ name_i ∷ name_x1 ∷ name_d0 ∷ name_p1 ∷ name_q1 ∷ []); body = (c.Then (c.Set 0 (c.Const 1)) (c.Then (c.Set 1 (c.Const 1)) (c.Then (c.Set 0 (c.Temp 1)) (c.Then (c.Malloc 5 3) (c.Then (c.If (c.Pointers (c.Temp 5) (c.Const 0) true) (c.Then (c.Return None) c.End) c.End) (c.Then (c.Store (root.Temp 5) (c.Offset 0 c.Here) (c.Temp 0)) (c.Then (c.Load 1 (root.Temp 5) (c.Offset 0 c.Here)) (c.Then (c.Free (c.Temp 5)) c.End)))))))) }) (s.Then 1 (s.Set ([]) ([])) s.NoBlock (s.Then 2 (s.Have (IsInt (Of unary.Vi (Number (pos 3)))) ([])) s.NoBlock (s.Then 3 (s.Set ([]) ([])) s.NoBlock (s.Then 4 (s.Set ([]) ([])) s.NoBlock (s.Then 5 (s.Malloc name_k1 ([]) ([])) (s.WithBlock (s.Then 6 (s.If ([]) ([]) ([]) ([])) (s.WithBlock (s.Then 7 (s.Return ([]) ([]) ([])) s.NoBlock s.End) (s.WithBlock (s.Then 8 (s.Absurd ([])) s.NoBlock s.End) s.NoBlock)) s.End) (s.WithBlock (s.Then 9 (s.If (0 ∷ []) ([]) ([]) ([])) (s.WithBlock (s.Then 10 (s.Subst name_k1) s.NoBlock (s.Then 11 (s.Absurd ([])) s.NoBlock s.End)) (s.WithBlock (s.Then 12 (s.Forget (forgotten.Prop 0)) s.NoBlock (s.Then 13 (s.Store 0 ([]) ([])) s.NoBlock (s.Then 14 (s.Bounds 0 None ([])) s.NoBlock (s.Then 15 (s.Load 0 ([]) ([])) s.NoBlock (s.Then 16 (s.Free 0 1 ([])) s.NoBlock (s.Then 17 (s.Naming name_k2 (Of unary.Vi (Number (pos 1)))) s.NoBlock (s.Then 18 (s.Fall ([]) ([])) s.NoBlock s.End))))))) s.NoBlock)) s.End) s.NoBlock)) s.End))))) ≡ Accepted
unfolding computing
random_674 = refl

random_675 : body_verdict (record { predicates = ((record { name = name_E; args = ([]); cases = ((record { opened = []; facts = ([]); locals = []; items = ([]) }) ∷ []) }) ∷ []); specs = ((record { is_void = true; name = name_f; params = ([]); vars = []; pre = (record { opened = []; facts = ([]); locals = []; items = ([]) }); post = (record { opened = []; facts = ([]); locals = []; items = ([]) }) }) ∷ (record { is_void = false; name = name_main; params = ([]); vars = []; pre = (record { opened = []; facts = ([]); locals = []; items = ([]) }); post = (record { opened = []; facts = ((Rel relation.Eq (Var 0 sort.Val) (Of unary.Vi (Number (pos 0)))) ∷ []); locals = []; items = ([]) }) }) ∷ []) }) (record { is_void = false; name = name_main; params = ([]); vars = []; pre = (record { opened = []; facts = ([]); locals = []; items = ([]) }); post = (record { opened = []; facts = ((Rel relation.Eq (Var 0 sort.Val) (Of unary.Vi (Number (pos 0)))) ∷ []); locals = []; items = ([]) }) }) (record { temps = ([]); body = (c.Then (c.Return (Some (c.Const 0))) c.End) }) (s.Then 1 (s.Return ([]) ([]) ([])) s.NoBlock s.End) ≡ Accepted
unfolding computing
random_675 = refl

random_676 : body_verdict (record { predicates = ((record { name = name_E; args = ([]); cases = ((record { opened = []; facts = ([]); locals = []; items = ([]) }) ∷ []) }) ∷ []); specs = ((record { is_void = true; name = name_f; params = ([]); vars = []; pre = (record { opened = []; facts = ([]); locals = []; items = ([]) }); post = (record { opened = []; facts = ([]); locals = []; items = ([]) }) }) ∷ (record { is_void = false; name = name_main; params = ([]); vars = []; pre = (record { opened = []; facts = ([]); locals = []; items = ([]) }); post = (record { opened = []; facts = ((Rel relation.Eq (Var 0 sort.Val) (Of unary.Vi (Number (pos 0)))) ∷ []); locals = []; items = ([]) }) }) ∷ []) }) (record { is_void = true; name = name_f; params = ([]); vars = []; pre = (record { opened = []; facts = ([]); locals = []; items = ([]) }); post = (record { opened = []; facts = ([]); locals = []; items = ([]) }) }) (record { temps = (name_s ∷ name_t ∷ name_i ∷ name_x1 ∷ name_d0 ∷ name_p1 ∷ name_q1 ∷ []); body = (c.Then (c.Set 0 (c.Const 1)) (c.Then (c.Set 1 (c.Const 1)) (c.Then (c.Set 0 (c.Temp 1)) (c.Then (c.Malloc 5 3) (c.Then (c.If (c.Pointers (c.Temp 5) (c.Const 0) true) (c.Then (c.Return None) c.End) c.End) (c.Then (c.Store (root.Temp 5) (c.Offset 0 c.Here) (c.Temp 0)) (c.Then (c.Load 1 (root.Temp 5) (c.Offset 0 c.Here)) (c.Then (c.Free (c.Temp 5)) c.End)))))))) }) (s.Then 1 s.Skip s.NoBlock (s.Then 2 (s.Have (IsInt (Of unary.Vi (Number (pos 3)))) ([])) s.NoBlock (s.Then 3 (s.Set ([]) ([])) s.NoBlock (s.Then 4 (s.Set ([]) ([])) s.NoBlock (s.Then 5 (s.Malloc name_k1 ([]) ([])) (s.WithBlock (s.Then 6 (s.If ([]) ([]) ([]) ([])) (s.WithBlock (s.Then 7 (s.Return ([]) ([]) ([])) s.NoBlock s.End) (s.WithBlock (s.Then 8 (s.Absurd ([])) s.NoBlock s.End) s.NoBlock)) s.End) (s.WithBlock (s.Then 9 (s.If (0 ∷ []) ([]) ([]) ([])) (s.WithBlock (s.Then 10 (s.Subst name_k1) s.NoBlock (s.Then 11 (s.Absurd ([])) s.NoBlock s.End)) (s.WithBlock (s.Then 12 (s.Forget (forgotten.Prop 0)) s.NoBlock (s.Then 13 (s.Store 0 ([]) ([])) s.NoBlock (s.Then 14 (s.Bounds 0 None ([])) s.NoBlock (s.Then 15 (s.Load 0 ([]) ([])) s.NoBlock (s.Then 16 (s.Free 0 1 ([])) s.NoBlock (s.Then 17 (s.Naming name_k2 (Of unary.Vi (Number (pos 1)))) s.NoBlock (s.Then 18 (s.Fall ([]) ([])) s.NoBlock s.End))))))) s.NoBlock)) s.End) s.NoBlock)) s.End))))) ≡ (RefusedAt 1 1 1)
unfolding computing
random_676 = refl

random_677 : body_verdict (record { predicates = ((record { name = name_E; args = ([]); cases = ((record { opened = []; facts = ([]); locals = []; items = ([]) }) ∷ []) }) ∷ []); specs = ((record { is_void = true; name = name_f; params = ([]); vars = []; pre = (record { opened = []; facts = ([]); locals = []; items = ([]) }); post = (record { opened = []; facts = ([]); locals = []; items = ([]) }) }) ∷ (record { is_void = false; name = name_main; params = ([]); vars = []; pre = (record { opened = []; facts = ([]); locals = []; items = ([]) }); post = (record { opened = []; facts = ((Rel relation.Eq (Var 0 sort.Val) (Of unary.Vi (Number (pos 0)))) ∷ []); locals = []; items = ([]) }) }) ∷ []) }) (record { is_void = true; name = name_f; params = ([]); vars = []; pre = (record { opened = []; facts = ([]); locals = []; items = ([]) }); post = (record { opened = []; facts = ([]); locals = []; items = ([]) }) }) (record { temps = (name_s ∷ name_t ∷ name_i ∷ name_x1 ∷ name_d0 ∷ name_p1 ∷ name_q1 ∷ []); body = (c.Then (c.Set 0 (c.Const 1)) (c.Then (c.Set 1 (c.Const 1)) (c.Then (c.Set 0 (c.Temp 1)) (c.Then (c.Malloc 5 3) (c.Then (c.If (c.Pointers (c.Temp 5) (c.Const 0) true) (c.Then (c.Return None) c.End) c.End) (c.Then (c.Store (root.Temp 5) (c.Offset 0 c.Here) (c.Temp 0)) (c.Then (c.Load 1 (root.Temp 5) (c.Offset 0 c.Here)) (c.Then (c.Free (c.Temp 5)) c.End)))))))) }) (s.Then 1 (s.Set ([]) ([])) s.NoBlock (s.Then 2 (s.Have (IsInt (Of unary.Vi (Number (pos 3)))) ([])) s.NoBlock (s.Then 3 (s.Set ([]) ([])) s.NoBlock (s.Then 4 (s.Set ([]) ([])) s.NoBlock (s.Then 5 (s.Malloc name_k1 ([]) ([])) (s.WithBlock (s.Then 6 (s.If ([]) ([]) ([]) ([])) (s.WithBlock (s.Then 7 (s.Return ([]) ([]) ([])) s.NoBlock s.End) (s.WithBlock (s.Then 8 (s.Absurd ([])) s.NoBlock s.End) s.NoBlock)) s.End) (s.WithBlock (s.Then 9 (s.If (0 ∷ []) ([]) ([]) ([])) (s.WithBlock (s.Then 10 (s.Subst name_k1) s.NoBlock (s.Then 11 (s.Absurd ([])) s.NoBlock s.End)) (s.WithBlock (s.Then 12 (s.Forget (forgotten.Prop 0)) s.NoBlock (s.Then 13 (s.Store 0 ([]) ([])) s.NoBlock (s.Then 14 (s.Have (Rel relation.Le (Number (pos 0)) (Number (pos 1))) ([])) s.NoBlock (s.Then 15 (s.Load 0 ([]) ([])) s.NoBlock (s.Then 16 (s.Free 0 1 ([])) s.NoBlock (s.Then 17 (s.Naming name_k2 (Of unary.Vi (Number (pos 1)))) s.NoBlock (s.Then 18 (s.Fall ([]) ([])) s.NoBlock s.End))))))) s.NoBlock)) s.End) s.NoBlock)) s.End))))) ≡ Accepted
unfolding computing
random_677 = refl

random_678 : body_verdict (record { predicates = ((record { name = name_E; args = ([]); cases = ((record { opened = []; facts = ([]); locals = []; items = ([]) }) ∷ []) }) ∷ []); specs = ((record { is_void = true; name = name_f; params = ([]); vars = []; pre = (record { opened = []; facts = ([]); locals = []; items = ([]) }); post = (record { opened = []; facts = ([]); locals = []; items = ([]) }) }) ∷ (record { is_void = false; name = name_main; params = ([]); vars = []; pre = (record { opened = []; facts = ([]); locals = []; items = ([]) }); post = (record { opened = []; facts = ((Rel relation.Eq (Var 0 sort.Val) (Of unary.Vi (Number (pos 0)))) ∷ []); locals = []; items = ([]) }) }) ∷ []) }) (record { is_void = true; name = name_f; params = ([]); vars = []; pre = (record { opened = []; facts = ([]); locals = []; items = ([]) }); post = (record { opened = []; facts = ([]); locals = []; items = ([]) }) }) (record { temps = (name_s ∷ name_t ∷ name_i ∷ name_x1 ∷ name_d0 ∷ name_p1 ∷ name_q1 ∷ []); body = (c.Then (c.Set 0 (c.Const 1)) (c.Then (c.Set 1 (c.Const 1)) (c.Then (c.Set 0 (c.Temp 1)) (c.Then (c.Malloc 5 3) (c.Then (c.If (c.Pointers (c.Temp 5) (c.Const 0) true) (c.Then (c.Return None) c.End) c.End) (c.Then (c.Load 1 (root.Temp 5) (c.Offset 0 c.Here)) (c.Then (c.Free (c.Temp 5)) c.End))))))) }) (s.Then 1 (s.Set ([]) ([])) s.NoBlock (s.Then 2 (s.Have (IsInt (Of unary.Vi (Number (pos 3)))) ([])) s.NoBlock (s.Then 3 (s.Set ([]) ([])) s.NoBlock (s.Then 4 (s.Set ([]) ([])) s.NoBlock (s.Then 5 (s.Malloc name_k1 ([]) ([])) (s.WithBlock (s.Then 6 (s.If ([]) ([]) ([]) ([])) (s.WithBlock (s.Then 7 (s.Return ([]) ([]) ([])) s.NoBlock s.End) (s.WithBlock (s.Then 8 (s.Absurd ([])) s.NoBlock s.End) s.NoBlock)) s.End) (s.WithBlock (s.Then 9 (s.If (0 ∷ []) ([]) ([]) ([])) (s.WithBlock (s.Then 10 (s.Subst name_k1) s.NoBlock (s.Then 11 (s.Absurd ([])) s.NoBlock s.End)) (s.WithBlock (s.Then 12 (s.Forget (forgotten.Prop 0)) s.NoBlock (s.Then 13 (s.Store 0 ([]) ([])) s.NoBlock (s.Then 14 (s.Bounds 0 None ([])) s.NoBlock (s.Then 15 (s.Load 0 ([]) ([])) s.NoBlock (s.Then 16 (s.Free 0 1 ([])) s.NoBlock (s.Then 17 (s.Naming name_k2 (Of unary.Vi (Number (pos 1)))) s.NoBlock (s.Then 18 (s.Fall ([]) ([])) s.NoBlock s.End))))))) s.NoBlock)) s.End) s.NoBlock)) s.End))))) ≡ (RefusedAt 13 4 1)
unfolding computing
random_678 = refl

random_679 : body_verdict (record { predicates = ((record { name = name_E; args = ([]); cases = ((record { opened = []; facts = ([]); locals = []; items = ([]) }) ∷ []) }) ∷ []); specs = ((record { is_void = true; name = name_f; params = ([]); vars = []; pre = (record { opened = []; facts = ([]); locals = []; items = ([]) }); post = (record { opened = []; facts = ([]); locals = []; items = ([]) }) }) ∷ (record { is_void = false; name = name_main; params = ([]); vars = []; pre = (record { opened = []; facts = ([]); locals = []; items = ([]) }); post = (record { opened = []; facts = ((Rel relation.Eq (Var 0 sort.Val) (Of unary.Vi (Number (pos 0)))) ∷ []); locals = []; items = ([]) }) }) ∷ []) }) (record { is_void = true; name = name_f; params = ([]); vars = []; pre = (record { opened = []; facts = ([]); locals = []; items = ([]) }); post = (record { opened = []; facts = ([]); locals = []; items = ([]) }) }) (record { temps = (name_s ∷ name_t ∷ name_i ∷ name_x1 ∷ name_d0 ∷ name_p1 ∷ name_q1 ∷ []); body = (c.Then (c.Set 0 (c.Const 1)) (c.Then (c.Set 1 (c.Const 1)) (c.Then (c.Set 0 (c.Temp 1)) (c.Then (c.Malloc 5 3) (c.Then (c.If (c.Pointers (c.Temp 5) (c.Const 0) true) (c.Then (c.Return None) c.End) c.End) (c.Then (c.Store (root.Temp 5) (c.Offset 0 c.Here) (c.Temp 0)) (c.Then (c.Load 1 (root.Temp 5) (c.Offset 0 c.Here)) (c.Then (c.Free (c.Temp 5)) c.End)))))))) }) (s.Then 1 (s.Set ([]) ([])) s.NoBlock (s.Then 2 (s.Have (IsInt (Of unary.Vi (Number (pos 3)))) ([])) s.NoBlock (s.Then 3 (s.Set ([]) ([])) s.NoBlock (s.Then 4 (s.Set ([]) ([])) s.NoBlock (s.Then 5 (s.Malloc name_k1 ([]) ([])) (s.WithBlock (s.Then 6 (s.If ([]) ([]) ([]) ([])) (s.WithBlock (s.Then 7 (s.Return ([]) ([]) ([])) s.NoBlock s.End) (s.WithBlock (s.Then 8 (s.Absurd ([])) s.NoBlock s.End) s.NoBlock)) s.End) (s.WithBlock (s.Then 9 (s.If (0 ∷ []) ([]) ([]) ([])) (s.WithBlock (s.Then 10 (s.Subst name_k1) s.NoBlock (s.Then 11 (s.Absurd ([])) s.NoBlock s.End)) (s.WithBlock (s.Then 12 (s.Forget (forgotten.Prop 0)) s.NoBlock (s.Then 13 (s.Store 0 ([]) ([])) s.NoBlock (s.Then 14 (s.Bounds 0 None ([])) s.NoBlock (s.Then 15 (s.Load 0 ([]) ([])) s.NoBlock (s.Then 16 (s.Free 0 1 ([])) s.NoBlock (s.Then 17 (s.Naming name_k1 (Of unary.Vi (Number (pos 1)))) s.NoBlock (s.Then 18 (s.Fall ([]) ([])) s.NoBlock s.End))))))) s.NoBlock)) s.End) s.NoBlock)) s.End))))) ≡ (RefusedAt 17 38 6)
unfolding computing
random_679 = refl

random_680 : body_verdict (record { predicates = ((record { name = name_E; args = ([]); cases = ((record { opened = []; facts = ([]); locals = []; items = ([]) }) ∷ []) }) ∷ []); specs = ((record { is_void = true; name = name_f; params = ([]); vars = []; pre = (record { opened = []; facts = ([]); locals = []; items = ([]) }); post = (record { opened = []; facts = ([]); locals = []; items = ([]) }) }) ∷ (record { is_void = false; name = name_main; params = ([]); vars = []; pre = (record { opened = []; facts = ([]); locals = []; items = ([]) }); post = (record { opened = []; facts = ((Rel relation.Eq (Var 0 sort.Val) (Of unary.Vi (Number (pos 0)))) ∷ []); locals = []; items = ([]) }) }) ∷ []) }) (record { is_void = true; name = name_f; params = ([]); vars = []; pre = (record { opened = []; facts = ([]); locals = []; items = ([]) }); post = (record { opened = []; facts = ([]); locals = []; items = ([]) }) }) (record { temps = (name_s ∷ name_t ∷ name_i ∷ name_x1 ∷ name_d0 ∷ name_p1 ∷ name_q1 ∷ []); body = (c.Then (c.Set 0 (c.Const 1)) (c.Then (c.Set 1 (c.Const 1)) (c.Then (c.Set 0 (c.Temp 1)) (c.Then (c.Malloc 5 3) (c.Then (c.If (c.Pointers (c.Temp 5) (c.Const 0) true) (c.Then (c.Return None) c.End) c.End) (c.Then (c.Store (root.Temp 5) (c.Offset 0 c.Here) (c.Temp 0)) (c.Then (c.Load 1 (root.Temp 5) (c.Offset 0 c.Here)) (c.Then (c.Free (c.Temp 5)) c.End)))))))) }) (s.Then 1 (s.Set ([]) ([])) s.NoBlock (s.Then 2 (s.Have (IsInt (Of unary.Vi (Number (pos 3)))) ([])) s.NoBlock (s.Then 3 (s.Set ([]) ([])) s.NoBlock (s.Then 4 (s.Set ([]) ([])) s.NoBlock (s.Then 5 (s.Malloc name_k1 ([]) ([])) (s.WithBlock (s.Then 6 (s.If ([]) ([]) ([]) ([])) (s.WithBlock (s.Then 7 (s.Return ([]) ([]) ([])) s.NoBlock s.End) (s.WithBlock (s.Then 8 (s.Absurd ([])) s.NoBlock s.End) s.NoBlock)) s.End) (s.WithBlock (s.Then 9 (s.If (0 ∷ []) ([]) ([]) ([])) (s.WithBlock (s.Then 10 (s.Subst name_k1) s.NoBlock (s.Then 11 (s.Absurd ([])) s.NoBlock s.End)) (s.WithBlock (s.Then 12 (s.Forget (forgotten.Prop 0)) s.NoBlock (s.Then 13 (s.Store 0 ([]) ([])) s.NoBlock (s.Then 14 (s.Bounds 0 None ([])) s.NoBlock (s.Then 15 (s.Free 0 1 ([])) s.NoBlock (s.Then 16 (s.Naming name_k2 (Of unary.Vi (Number (pos 1)))) s.NoBlock (s.Then 17 (s.Fall ([]) ([])) s.NoBlock s.End)))))) s.NoBlock)) s.End) s.NoBlock)) s.End))))) ≡ (RefusedAt 15 15 1)
unfolding computing
random_680 = refl

random_681 : body_verdict (record { predicates = ([]); specs = ((record { is_void = false; name = name_main; params = ([]); vars = []; pre = (record { opened = []; facts = ([]); locals = []; items = ((Data (Number (pos 64)) (Global name_arr) (Of2 binary.Cons (Of unary.Vi (Number (pos 1))) (Of2 binary.Cons (Of unary.Vi (Number (pos 2))) (Of2 binary.Cons (Of unary.Vi (Number (pos 0))) (Of2 binary.Cons (Of unary.Vi (Number (pos 0))) Nil))))) ∷ []) }); post = (record { opened = (sort.List ∷ []); facts = ([]); locals = []; items = ((Data (Number (pos 64)) (Global name_arr) (Var 1 sort.List)) ∷ []) }) }) ∷ []) }) (record { is_void = false; name = name_main; params = ([]); vars = []; pre = (record { opened = []; facts = ([]); locals = []; items = ((Data (Number (pos 64)) (Global name_arr) (Of2 binary.Cons (Of unary.Vi (Number (pos 1))) (Of2 binary.Cons (Of unary.Vi (Number (pos 2))) (Of2 binary.Cons (Of unary.Vi (Number (pos 0))) (Of2 binary.Cons (Of unary.Vi (Number (pos 0))) Nil))))) ∷ []) }); post = (record { opened = (sort.List ∷ []); facts = ([]); locals = []; items = ((Data (Number (pos 64)) (Global name_arr) (Var 1 sort.List)) ∷ []) }) }) (record { temps = (name_s ∷ name_t ∷ name_i ∷ name_x1 ∷ name_d0 ∷ name_p1 ∷ name_q1 ∷ []); body = (c.Then (c.Set 0 (c.Const 0)) (c.Then (c.Set 1 (c.Const 0)) (c.Then (c.Set 2 (c.Const 0)) (c.Then (c.Loop (c.Then (c.If (c.Nonzero kind.Signed (c.Binary two.Lt kind.Signed (c.Temp 2) (c.Const 1))) (c.Then (c.Set 4 (c.Const 1)) (c.Then (c.Set 2 (c.Binary two.Add kind.Signed (c.Temp 2) (c.Const 1))) c.End)) (c.Then c.Break c.End)) c.End)) (c.Then (c.If (c.Nonzero kind.Signed (c.Binary two.Ne kind.Signed (c.Temp 1) (c.Const 1))) (c.Then (c.Set 0 (c.Binary two.Add kind.Signed (c.Temp 1) (c.Const 1))) c.End) (c.Then (c.Set 0 (c.Const 2)) c.End)) (c.Then (c.Return (Some (c.Temp 1))) c.End)))))) }) (s.Then 1 (s.Set ([]) ([])) s.NoBlock (s.Then 2 (s.Set ([]) ([])) s.NoBlock (s.Then 3 (s.Set ([]) ([])) s.NoBlock (s.Then 4 (s.While (record { opened = (sort.Int ∷ []); facts = ((Rel relation.Le (Number (pos 0)) (Var 0 sort.Int)) ∷ (Rel relation.Le (Var 0 sort.Int) (Number (pos 1))) ∷ []); locals = ((name_s, (Of unary.Vi (Number (pos 0)))) ∷ (name_t, (Of unary.Vi (Number (pos 0)))) ∷ (name_i, (Of unary.Vi (Var 0 sort.Int))) ∷ []); items = ((Data (Number (pos 64)) (Global name_arr) (Of2 binary.Cons (Of unary.Vi (Number (pos 1))) (Of2 binary.Cons (Of unary.Vi (Number (pos 2))) (Of2 binary.Cons (Of unary.Vi (Number (pos 0))) (Of2 binary.Cons (Of unary.Vi (Number (pos 0))) Nil))))) ∷ []) }) (record { opened = (sort.Int ∷ []); facts = ((Rel relation.Le (Number (pos 0)) (Var 0 sort.Int)) ∷ (Rel relation.Le (Var 0 sort.Int) (Number (pos 1))) ∷ (Rel relation.Le (Number (pos 1)) (Var 0 sort.Int)) ∷ []); locals = ((name_s, (Of unary.Vi (Number (pos 0)))) ∷ (name_t, (Of unary.Vi (Number (pos 0)))) ∷ (name_i, (Of unary.Vi (Var 0 sort.Int))) ∷ []); items = ((Data (Number (pos 64)) (Global name_arr) (Of2 binary.Cons (Of unary.Vi (Number (pos 1))) (Of2 binary.Cons (Of unary.Vi (Number (pos 2))) (Of2 binary.Cons (Of unary.Vi (Number (pos 0))) (Of2 binary.Cons (Of unary.Vi (Number (pos 0))) Nil))))) ∷ []) }) (name_k2 ∷ []) ([]) (name_k1 ∷ [])) (s.WithBlock (s.Then 5 (s.Meet ((Number (pos 0)) ∷ []) ([])) s.NoBlock s.End) (s.WithBlock (s.Then 6 (s.If ([]) ((record { lines = ((line.Comb (((pos 1), 0) ∷ ((pos 1), 2) ∷ [])) ∷ []) }) ∷ (record { lines = ((line.Comb (((pos 1), 1) ∷ ((pos 1), 2) ∷ [])) ∷ []) }) ∷ []) ([]) ([])) (s.WithBlock (s.Then 7 (s.Set ([]) ([])) s.NoBlock (s.Then 8 (s.Set ([]) ((record { lines = ((line.Comb (((pos 1), 0) ∷ ((pos 1), 3) ∷ [])) ∷ []) }) ∷ (record { lines = ((line.Comb (((pos 1), 1) ∷ ((pos 1), 3) ∷ [])) ∷ []) }) ∷ (record { lines = ((line.Comb (((pos 1), 0) ∷ ((pos 1), 3) ∷ [])) ∷ []) }) ∷ (record { lines = ((line.Comb (((pos 1), 1) ∷ ((pos 1), 3) ∷ [])) ∷ []) }) ∷ [])) s.NoBlock (s.Then 9 (s.Have (Rel relation.Le (Number (pos 0)) (Number (pos 7))) ([])) s.NoBlock (s.Then 10 (s.Fall ((Of2 binary.Add (Named name_k1) (Number (pos 1))) ∷ []) ((record { lines = ((line.Comb (((pos 1), 0) ∷ ((pos 1), 4) ∷ [])) ∷ []) }) ∷ [])) s.NoBlock s.End)))) (s.WithBlock (s.Then 11 (s.Break ((Named name_k1) ∷ []) ([])) s.NoBlock s.End) s.NoBlock)) s.End) s.NoBlock)) (s.Then 12 (s.If ([]) ([]) ([]) ([])) (s.WithBlock (s.Then 13 (s.Set ([]) ([])) s.NoBlock (s.Then 14 (s.Return ((Of2 binary.Cons (Of unary.Vi (Number (pos 1))) (Of2 binary.Cons (Of unary.Vi (Number (pos 2))) (Of2 binary.Cons (Of unary.Vi (Number (pos 0))) (Of2 binary.Cons (Of unary.Vi (Number (pos 0))) Nil)))) ∷ []) ([]) ([])) s.NoBlock s.End)) (s.WithBlock (s.Then 15 (s.Absurd ([])) s.NoBlock s.End) s.NoBlock)) s.End))))) ≡ Accepted
unfolding computing
random_681 = refl

random_682 : body_verdict (record { predicates = ([]); specs = ((record { is_void = false; name = name_main; params = ([]); vars = []; pre = (record { opened = []; facts = ([]); locals = []; items = ((Data (Number (pos 64)) (Global name_arr) (Of2 binary.Cons (Of unary.Vi (Number (pos 1))) (Of2 binary.Cons (Of unary.Vi (Number (pos 2))) (Of2 binary.Cons (Of unary.Vi (Number (pos 0))) (Of2 binary.Cons (Of unary.Vi (Number (pos 0))) Nil))))) ∷ []) }); post = (record { opened = (sort.List ∷ []); facts = ([]); locals = []; items = ((Data (Number (pos 64)) (Global name_arr) (Var 1 sort.List)) ∷ []) }) }) ∷ []) }) (record { is_void = false; name = name_main; params = ([]); vars = []; pre = (record { opened = []; facts = ([]); locals = []; items = ((Data (Number (pos 64)) (Global name_arr) (Of2 binary.Cons (Of unary.Vi (Number (pos 1))) (Of2 binary.Cons (Of unary.Vi (Number (pos 2))) (Of2 binary.Cons (Of unary.Vi (Number (pos 0))) (Of2 binary.Cons (Of unary.Vi (Number (pos 0))) Nil))))) ∷ []) }); post = (record { opened = (sort.List ∷ []); facts = ([]); locals = []; items = ((Data (Number (pos 64)) (Global name_arr) (Var 1 sort.List)) ∷ []) }) }) (record { temps = (name_s ∷ name_t ∷ name_i ∷ name_x1 ∷ name_d0 ∷ name_p1 ∷ name_q1 ∷ []); body = (c.Then (c.Set 0 (c.Const 0)) (c.Then (c.Set 1 (c.Const 0)) (c.Then (c.Set 2 (c.Const 0)) (c.Then (c.Loop (c.Then (c.If (c.Nonzero kind.Signed (c.Binary two.Lt kind.Signed (c.Temp 2) (c.Const 1))) (c.Then (c.Set 4 (c.Const 1)) (c.Then (c.Set 2 (c.Binary two.Add kind.Signed (c.Temp 2) (c.Const 1))) c.End)) (c.Then c.Break c.End)) c.End)) (c.Then (c.If (c.Nonzero kind.Signed (c.Binary two.Ne kind.Signed (c.Temp 1) (c.Const 1))) (c.Then (c.Set 0 (c.Binary two.Add kind.Signed (c.Temp 1) (c.Const 1))) c.End) (c.Then (c.Set 0 (c.Const 2)) c.End)) (c.Then (c.Return (Some (c.Temp 1))) c.End)))))) }) (s.Then 1 (s.Set ([]) ([])) s.NoBlock (s.Then 2 (s.Set ([]) ([])) s.NoBlock (s.Then 3 (s.Set ([]) ([])) s.NoBlock (s.Then 4 (s.Set ([]) ([])) s.NoBlock (s.Then 5 (s.While (record { opened = (sort.Int ∷ []); facts = ((Rel relation.Le (Number (pos 0)) (Var 0 sort.Int)) ∷ (Rel relation.Le (Var 0 sort.Int) (Number (pos 1))) ∷ []); locals = ((name_s, (Of unary.Vi (Number (pos 0)))) ∷ (name_t, (Of unary.Vi (Number (pos 0)))) ∷ (name_i, (Of unary.Vi (Var 0 sort.Int))) ∷ []); items = ((Data (Number (pos 64)) (Global name_arr) (Of2 binary.Cons (Of unary.Vi (Number (pos 1))) (Of2 binary.Cons (Of unary.Vi (Number (pos 2))) (Of2 binary.Cons (Of unary.Vi (Number (pos 0))) (Of2 binary.Cons (Of unary.Vi (Number (pos 0))) Nil))))) ∷ []) }) (record { opened = (sort.Int ∷ []); facts = ((Rel relation.Le (Number (pos 0)) (Var 0 sort.Int)) ∷ (Rel relation.Le (Var 0 sort.Int) (Number (pos 1))) ∷ (Rel relation.Le (Number (pos 1)) (Var 0 sort.Int)) ∷ []); locals = ((name_s, (Of unary.Vi (Number (pos 0)))) ∷ (name_t, (Of unary.Vi (Number (pos 0)))) ∷ (name_i, (Of unary.Vi (Var 0 sort.Int))) ∷ []); items = ((Data (Number (pos 64)) (Global name_arr) (Of2 binary.Cons (Of unary.Vi (Number (pos 1))) (Of2 binary.Cons (Of unary.Vi (Number (pos 2))) (Of2 binary.Cons (Of unary.Vi (Number (pos 0))) (Of2 binary.Cons (Of unary.Vi (Number (pos 0))) Nil))))) ∷ []) }) (name_k2 ∷ []) ([]) (name_k1 ∷ [])) (s.WithBlock (s.Then 6 (s.Meet ((Number (pos 0)) ∷ []) ([])) s.NoBlock s.End) (s.WithBlock (s.Then 7 (s.If ([]) ((record { lines = ((line.Comb (((pos 1), 0) ∷ ((pos 1), 2) ∷ [])) ∷ []) }) ∷ (record { lines = ((line.Comb (((pos 1), 1) ∷ ((pos 1), 2) ∷ [])) ∷ []) }) ∷ []) ([]) ([])) (s.WithBlock (s.Then 8 (s.Set ([]) ([])) s.NoBlock (s.Then 9 (s.Set ([]) ((record { lines = ((line.Comb (((pos 1), 0) ∷ ((pos 1), 3) ∷ [])) ∷ []) }) ∷ (record { lines = ((line.Comb (((pos 1), 1) ∷ ((pos 1), 3) ∷ [])) ∷ []) }) ∷ (record { lines = ((line.Comb (((pos 1), 0) ∷ ((pos 1), 3) ∷ [])) ∷ []) }) ∷ (record { lines = ((line.Comb (((pos 1), 1) ∷ ((pos 1), 3) ∷ [])) ∷ []) }) ∷ [])) s.NoBlock (s.Then 10 (s.Have (Rel relation.Le (Number (pos 0)) (Number (pos 7))) ([])) s.NoBlock (s.Then 11 (s.Fall ((Of2 binary.Add (Named name_k1) (Number (pos 1))) ∷ []) ((record { lines = ((line.Comb (((pos 1), 0) ∷ ((pos 1), 4) ∷ [])) ∷ []) }) ∷ [])) s.NoBlock s.End)))) (s.WithBlock (s.Then 12 (s.Break ((Named name_k1) ∷ []) ([])) s.NoBlock s.End) s.NoBlock)) s.End) s.NoBlock)) (s.Then 13 (s.If ([]) ([]) ([]) ([])) (s.WithBlock (s.Then 14 (s.Set ([]) ([])) s.NoBlock (s.Then 15 (s.Return ((Of2 binary.Cons (Of unary.Vi (Number (pos 1))) (Of2 binary.Cons (Of unary.Vi (Number (pos 2))) (Of2 binary.Cons (Of unary.Vi (Number (pos 0))) (Of2 binary.Cons (Of unary.Vi (Number (pos 0))) Nil)))) ∷ []) ([]) ([])) s.NoBlock s.End)) (s.WithBlock (s.Then 16 (s.Absurd ([])) s.NoBlock s.End) s.NoBlock)) s.End)))))) ≡ (RefusedAt 4 2 1)
unfolding computing
random_682 = refl

random_683 : body_verdict (record { predicates = ([]); specs = ((record { is_void = false; name = name_main; params = ([]); vars = []; pre = (record { opened = []; facts = ([]); locals = []; items = ((Data (Number (pos 64)) (Global name_arr) (Of2 binary.Cons (Of unary.Vi (Number (pos 1))) (Of2 binary.Cons (Of unary.Vi (Number (pos 2))) (Of2 binary.Cons (Of unary.Vi (Number (pos 0))) (Of2 binary.Cons (Of unary.Vi (Number (pos 0))) Nil))))) ∷ []) }); post = (record { opened = (sort.List ∷ []); facts = ([]); locals = []; items = ((Data (Number (pos 64)) (Global name_arr) (Var 1 sort.List)) ∷ []) }) }) ∷ []) }) (record { is_void = false; name = name_main; params = ([]); vars = []; pre = (record { opened = []; facts = ([]); locals = []; items = ((Data (Number (pos 64)) (Global name_arr) (Of2 binary.Cons (Of unary.Vi (Number (pos 1))) (Of2 binary.Cons (Of unary.Vi (Number (pos 2))) (Of2 binary.Cons (Of unary.Vi (Number (pos 0))) (Of2 binary.Cons (Of unary.Vi (Number (pos 0))) Nil))))) ∷ []) }); post = (record { opened = (sort.List ∷ []); facts = ([]); locals = []; items = ((Data (Number (pos 64)) (Global name_arr) (Var 1 sort.List)) ∷ []) }) }) (record { temps = (name_s ∷ name_t ∷ name_i ∷ name_x1 ∷ name_d0 ∷ name_p1 ∷ name_q1 ∷ []); body = (c.Then (c.Set 0 (c.Const 0)) (c.Then (c.Set 1 (c.Const 0)) (c.Then (c.Set 2 (c.Const 0)) (c.Then (c.Loop (c.Then (c.If (c.Nonzero kind.Signed (c.Binary two.Lt kind.Signed (c.Temp 2) (c.Const 1))) (c.Then (c.Set 4 (c.Const 1)) (c.Then (c.Set 2 (c.Binary two.Add kind.Signed (c.Temp 2) (c.Const 1))) c.End)) (c.Then c.Break c.End)) c.End)) (c.Then (c.If (c.Nonzero kind.Signed (c.Binary two.Ne kind.Signed (c.Temp 1) (c.Const 1))) (c.Then (c.Set 0 (c.Binary two.Add kind.Signed (c.Temp 1) (c.Const 1))) c.End) (c.Then (c.Set 0 (c.Const 2)) c.End)) (c.Then (c.Return (Some (c.Temp 1))) c.End)))))) }) (s.Then 1 (s.Set ([]) ([])) s.NoBlock (s.Then 2 (s.Set ([]) ([])) s.NoBlock (s.Then 3 (s.Set ([]) ([])) s.NoBlock (s.Then 4 (s.While (record { opened = (sort.Int ∷ []); facts = ((Rel relation.Le (Number (pos 0)) (Var 0 sort.Int)) ∷ (Rel relation.Le (Var 0 sort.Int) (Number (pos 1))) ∷ []); locals = ((name_s, (Of unary.Vi (Number (pos 0)))) ∷ (name_t, (Of unary.Vi (Number (pos 0)))) ∷ (name_i, (Of unary.Vi (Var 0 sort.Int))) ∷ []); items = ((Data (Number (pos 64)) (Global name_arr) (Of2 binary.Cons (Of unary.Vi (Number (pos 1))) (Of2 binary.Cons (Of unary.Vi (Number (pos 2))) (Of2 binary.Cons (Of unary.Vi (Number (pos 0))) (Of2 binary.Cons (Of unary.Vi (Number (pos 0))) Nil))))) ∷ []) }) (record { opened = (sort.Int ∷ []); facts = ((Rel relation.Le (Number (pos 0)) (Var 0 sort.Int)) ∷ (Rel relation.Le (Var 0 sort.Int) (Number (pos 1))) ∷ (Rel relation.Le (Number (pos 1)) (Var 0 sort.Int)) ∷ []); locals = ((name_s, (Of unary.Vi (Number (pos 0)))) ∷ (name_t, (Of unary.Vi (Number (pos 0)))) ∷ (name_i, (Of unary.Vi (Var 0 sort.Int))) ∷ []); items = ((Data (Number (pos 64)) (Global name_arr) (Of2 binary.Cons (Of unary.Vi (Number (pos 1))) (Of2 binary.Cons (Of unary.Vi (Number (pos 2))) (Of2 binary.Cons (Of unary.Vi (Number (pos 0))) (Of2 binary.Cons (Of unary.Vi (Number (pos 0))) Nil))))) ∷ []) }) (name_k2 ∷ []) ([]) (name_k1 ∷ [])) (s.WithBlock (s.Then 5 (s.Meet ((Number (pos 0)) ∷ []) ([])) s.NoBlock s.End) (s.WithBlock (s.Then 6 (s.If ([]) ((record { lines = ((line.Comb (((pos 1), 0) ∷ ((pos 1), 2) ∷ [])) ∷ []) }) ∷ (record { lines = ((line.Comb (((pos 1), 1) ∷ ((pos 1), 2) ∷ [])) ∷ []) }) ∷ []) ([]) ([])) (s.WithBlock (s.Then 7 (s.Set ([]) ([])) s.NoBlock (s.Then 8 (s.Set ([]) ((record { lines = ((line.Comb (((pos 1), 0) ∷ ((pos 1), 3) ∷ [])) ∷ []) }) ∷ (record { lines = ((line.Comb (((pos 1), 1) ∷ ((pos 1), 3) ∷ [])) ∷ []) }) ∷ (record { lines = ((line.Comb (((pos 1), 32) ∷ ((pos 1), 3) ∷ [])) ∷ []) }) ∷ (record { lines = ((line.Comb (((pos 1), 1) ∷ ((pos 1), 3) ∷ [])) ∷ []) }) ∷ [])) s.NoBlock (s.Then 9 (s.Have (Rel relation.Le (Number (pos 0)) (Number (pos 7))) ([])) s.NoBlock (s.Then 10 (s.Fall ((Of2 binary.Add (Named name_k1) (Number (pos 1))) ∷ []) ((record { lines = ((line.Comb (((pos 1), 0) ∷ ((pos 1), 4) ∷ [])) ∷ []) }) ∷ [])) s.NoBlock s.End)))) (s.WithBlock (s.Then 11 (s.Break ((Named name_k1) ∷ []) ([])) s.NoBlock s.End) s.NoBlock)) s.End) s.NoBlock)) (s.Then 12 (s.If ([]) ([]) ([]) ([])) (s.WithBlock (s.Then 13 (s.Set ([]) ([])) s.NoBlock (s.Then 14 (s.Return ((Of2 binary.Cons (Of unary.Vi (Number (pos 1))) (Of2 binary.Cons (Of unary.Vi (Number (pos 2))) (Of2 binary.Cons (Of unary.Vi (Number (pos 0))) (Of2 binary.Cons (Of unary.Vi (Number (pos 0))) Nil)))) ∷ []) ([]) ([])) s.NoBlock s.End)) (s.WithBlock (s.Then 15 (s.Absurd ([])) s.NoBlock s.End) s.NoBlock)) s.End))))) ≡ (RefusedAt 8 2 3)
unfolding computing
random_683 = refl

random_684 : body_verdict (record { predicates = ([]); specs = ((record { is_void = false; name = name_main; params = ([]); vars = []; pre = (record { opened = []; facts = ([]); locals = []; items = ((Data (Number (pos 64)) (Global name_arr) (Of2 binary.Cons (Of unary.Vi (Number (pos 1))) (Of2 binary.Cons (Of unary.Vi (Number (pos 2))) (Of2 binary.Cons (Of unary.Vi (Number (pos 0))) (Of2 binary.Cons (Of unary.Vi (Number (pos 0))) Nil))))) ∷ []) }); post = (record { opened = (sort.List ∷ []); facts = ([]); locals = []; items = ((Data (Number (pos 64)) (Global name_arr) (Var 1 sort.List)) ∷ []) }) }) ∷ []) }) (record { is_void = false; name = name_main; params = ([]); vars = []; pre = (record { opened = []; facts = ([]); locals = []; items = ((Data (Number (pos 64)) (Global name_arr) (Of2 binary.Cons (Of unary.Vi (Number (pos 1))) (Of2 binary.Cons (Of unary.Vi (Number (pos 2))) (Of2 binary.Cons (Of unary.Vi (Number (pos 0))) (Of2 binary.Cons (Of unary.Vi (Number (pos 0))) Nil))))) ∷ []) }); post = (record { opened = (sort.List ∷ []); facts = ([]); locals = []; items = ((Data (Number (pos 64)) (Global name_arr) (Var 1 sort.List)) ∷ []) }) }) (record { temps = (name_s ∷ name_t ∷ name_i ∷ name_x1 ∷ name_d0 ∷ name_p1 ∷ name_q1 ∷ []); body = (c.Then (c.Set 0 (c.Const 0)) (c.Then (c.Set 1 (c.Const 0)) (c.Then (c.Set 2 (c.Const 0)) (c.Then (c.Loop (c.Then (c.If (c.Nonzero kind.Signed (c.Binary two.Lt kind.Signed (c.Temp 2) (c.Const 1))) (c.Then (c.Set 4 (c.Const 1)) (c.Then (c.Set 2 (c.Binary two.Add kind.Signed (c.Temp 2) (c.Const 1))) c.End)) (c.Then c.Break c.End)) c.End)) (c.Then (c.If (c.Nonzero kind.Signed (c.Binary two.Ne kind.Signed (c.Temp 1) (c.Const 1))) (c.Then (c.Set 0 (c.Binary two.Add kind.Signed (c.Temp 1) (c.Const 1))) c.End) (c.Then (c.Set 0 (c.Const 2)) c.End)) (c.Then (c.Return (Some (c.Temp 1))) c.End)))))) }) (s.Then 1 (s.Set ([]) ([])) s.NoBlock (s.Then 2 (s.Set ([]) ([])) s.NoBlock (s.Then 3 (s.Set ([]) ([])) s.NoBlock (s.Then 4 (s.Free 0 1 ([])) s.NoBlock (s.Then 5 (s.If ([]) ([]) ([]) ([])) (s.WithBlock (s.Then 6 (s.Set ([]) ([])) s.NoBlock (s.Then 7 (s.Return ((Of2 binary.Cons (Of unary.Vi (Number (pos 1))) (Of2 binary.Cons (Of unary.Vi (Number (pos 2))) (Of2 binary.Cons (Of unary.Vi (Number (pos 0))) (Of2 binary.Cons (Of unary.Vi (Number (pos 0))) Nil)))) ∷ []) ([]) ([])) s.NoBlock s.End)) (s.WithBlock (s.Then 8 (s.Absurd ([])) s.NoBlock s.End) s.NoBlock)) s.End))))) ≡ (RefusedAt 4 15 1)
unfolding computing
random_684 = refl

random_685 : body_verdict (record { predicates = ([]); specs = ((record { is_void = false; name = name_main; params = ([]); vars = []; pre = (record { opened = []; facts = ([]); locals = []; items = ((Data (Number (pos 64)) (Global name_arr) (Of2 binary.Cons (Of unary.Vi (Number (pos 1))) (Of2 binary.Cons (Of unary.Vi (Number (pos 2))) (Of2 binary.Cons (Of unary.Vi (Number (pos 0))) (Of2 binary.Cons (Of unary.Vi (Number (pos 0))) Nil))))) ∷ []) }); post = (record { opened = (sort.List ∷ []); facts = ([]); locals = []; items = ((Data (Number (pos 64)) (Global name_arr) (Var 1 sort.List)) ∷ []) }) }) ∷ []) }) (record { is_void = false; name = name_main; params = ([]); vars = []; pre = (record { opened = []; facts = ([]); locals = []; items = ((Data (Number (pos 64)) (Global name_arr) (Of2 binary.Cons (Of unary.Vi (Number (pos 1))) (Of2 binary.Cons (Of unary.Vi (Number (pos 2))) (Of2 binary.Cons (Of unary.Vi (Number (pos 0))) (Of2 binary.Cons (Of unary.Vi (Number (pos 0))) Nil))))) ∷ []) }); post = (record { opened = (sort.List ∷ []); facts = ([]); locals = []; items = ((Data (Number (pos 64)) (Global name_arr) (Var 1 sort.List)) ∷ []) }) }) (record { temps = (name_s ∷ name_t ∷ name_i ∷ name_x1 ∷ name_d0 ∷ name_p1 ∷ name_q1 ∷ []); body = (c.Then (c.Set 0 (c.Const 0)) (c.Then (c.Set 1 (c.Const 0)) (c.Then (c.Set 2 (c.Const 0)) (c.Then (c.Loop (c.Then (c.If (c.Nonzero kind.Signed (c.Binary two.Lt kind.Signed (c.Temp 2) (c.Const 1))) (c.Then (c.Set 4 (c.Const 1)) (c.Then (c.Set 2 (c.Binary two.Add kind.Signed (c.Temp 2) (c.Const 1))) c.End)) (c.Then c.Break c.End)) c.End)) (c.Then (c.If (c.Nonzero kind.Signed (c.Binary two.Ne kind.Signed (c.Temp 1) (c.Const 1))) (c.Then (c.Set 0 (c.Binary two.Add kind.Signed (c.Temp 1) (c.Const 1))) c.End) (c.Then (c.Set 0 (c.Const 2)) c.End)) (c.Then (c.Return (Some (c.Temp 1))) c.End)))))) }) (s.Then 1 (s.Set ([]) ([])) s.NoBlock (s.Then 2 (s.Set ([]) ([])) s.NoBlock (s.Then 3 (s.Set ([]) ([])) s.NoBlock (s.Then 4 (s.While (record { opened = (sort.Int ∷ []); facts = ((Rel relation.Le (Number (pos 0)) (Var 0 sort.Int)) ∷ (Rel relation.Le (Var 0 sort.Int) (Number (pos 1))) ∷ []); locals = ((name_s, (Of unary.Vi (Number (pos 0)))) ∷ (name_t, (Of unary.Vi (Number (pos 0)))) ∷ (name_i, (Of unary.Vi (Var 0 sort.Int))) ∷ []); items = ((Data (Number (pos 64)) (Global name_arr) (Of2 binary.Cons (Of unary.Vi (Number (pos 1))) (Of2 binary.Cons (Of unary.Vi (Number (pos 2))) (Of2 binary.Cons (Of unary.Vi (Number (pos 0))) (Of2 binary.Cons (Of unary.Vi (Number (pos 0))) Nil))))) ∷ []) }) (record { opened = (sort.Int ∷ []); facts = ((Rel relation.Le (Number (pos 0)) (Var 0 sort.Int)) ∷ (Rel relation.Le (Var 0 sort.Int) (Number (pos 1))) ∷ (Rel relation.Le (Number (pos 1)) (Var 0 sort.Int)) ∷ []); locals = ((name_s, (Of unary.Vi (Number (pos 0)))) ∷ (name_t, (Of unary.Vi (Number (pos 0)))) ∷ (name_i, (Of unary.Vi (Var 0 sort.Int))) ∷ []); items = ((Data (Number (pos 64)) (Global name_arr) (Of2 binary.Cons (Of unary.Vi (Number (pos 1))) (Of2 binary.Cons (Of unary.Vi (Number (pos 2))) (Of2 binary.Cons (Of unary.Vi (Number (pos 0))) (Of2 binary.Cons (Of unary.Vi (Number (pos 0))) Nil))))) ∷ []) }) (name_k2 ∷ []) ([]) (name_k1 ∷ [])) (s.WithBlock (s.Then 5 (s.Meet ((Number (pos 0)) ∷ []) ([])) s.NoBlock s.End) (s.WithBlock (s.Then 6 (s.If ([]) ((record { lines = ((line.Comb (((pos 1), 0) ∷ ((pos 1), 2) ∷ [])) ∷ []) }) ∷ (record { lines = ((line.Comb (((pos 1), 1) ∷ ((pos 1), 2) ∷ [])) ∷ []) }) ∷ []) ([]) ([])) (s.WithBlock (s.Then 7 (s.Set ([]) ([])) s.NoBlock (s.Then 8 (s.Set ([]) ((record { lines = ((line.Comb (((pos 1), 0) ∷ ((pos 1), 3) ∷ [])) ∷ []) }) ∷ (record { lines = ((line.Comb (((pos 1), 1) ∷ ((pos 1), 3) ∷ [])) ∷ []) }) ∷ (record { lines = ((line.Comb (((pos 1), 0) ∷ ((pos 1), 3) ∷ [])) ∷ []) }) ∷ (record { lines = ((line.Comb (((pos 1), 1) ∷ ((pos 1), 3) ∷ [])) ∷ []) }) ∷ [])) s.NoBlock (s.Then 9 (s.Have (Rel relation.Le (Number (pos 0)) (Number (pos 7))) ([])) s.NoBlock (s.Then 10 (s.Fall ((Of2 binary.Add (Named name_k1) (Number (pos 1))) ∷ []) ((record { lines = ((line.Comb (((pos 1), 0) ∷ ((pos 1), 4) ∷ [])) ∷ []) }) ∷ [])) s.NoBlock s.End)))) (s.WithBlock s.End s.NoBlock)) s.End) s.NoBlock)) (s.Then 11 (s.If ([]) ([]) ([]) ([])) (s.WithBlock (s.Then 12 (s.Set ([]) ([])) s.NoBlock (s.Then 13 (s.Return ((Of2 binary.Cons (Of unary.Vi (Number (pos 1))) (Of2 binary.Cons (Of unary.Vi (Number (pos 2))) (Of2 binary.Cons (Of unary.Vi (Number (pos 0))) (Of2 binary.Cons (Of unary.Vi (Number (pos 0))) Nil)))) ∷ []) ([]) ([])) s.NoBlock s.End)) (s.WithBlock (s.Then 14 (s.Absurd ([])) s.NoBlock s.End) s.NoBlock)) s.End))))) ≡ (RefusedAt 11 0 10)
unfolding computing
random_685 = refl

random_686 : body_verdict (record { predicates = ([]); specs = ((record { is_void = false; name = name_main; params = ([]); vars = []; pre = (record { opened = []; facts = ([]); locals = []; items = ((Data (Number (pos 64)) (Global name_arr) (Of2 binary.Cons (Of unary.Vi (Number (pos 1))) (Of2 binary.Cons (Of unary.Vi (Number (pos 2))) (Of2 binary.Cons (Of unary.Vi (Number (pos 0))) (Of2 binary.Cons (Of unary.Vi (Number (pos 0))) Nil))))) ∷ []) }); post = (record { opened = (sort.List ∷ []); facts = ([]); locals = []; items = ((Data (Number (pos 64)) (Global name_arr) (Var 1 sort.List)) ∷ []) }) }) ∷ []) }) (record { is_void = false; name = name_main; params = ([]); vars = []; pre = (record { opened = []; facts = ([]); locals = []; items = ((Data (Number (pos 64)) (Global name_arr) (Of2 binary.Cons (Of unary.Vi (Number (pos 1))) (Of2 binary.Cons (Of unary.Vi (Number (pos 2))) (Of2 binary.Cons (Of unary.Vi (Number (pos 0))) (Of2 binary.Cons (Of unary.Vi (Number (pos 0))) Nil))))) ∷ []) }); post = (record { opened = (sort.List ∷ []); facts = ([]); locals = []; items = ((Data (Number (pos 64)) (Global name_arr) (Var 1 sort.List)) ∷ []) }) }) (record { temps = (name_s ∷ name_t ∷ name_i ∷ name_x1 ∷ name_d0 ∷ name_p1 ∷ name_q1 ∷ []); body = (c.Then (c.Set 0 (c.Const 0)) (c.Then (c.Set 1 (c.Const 0)) (c.Then (c.Set 2 (c.Const 0)) (c.Then (c.Loop (c.Then (c.If (c.Nonzero kind.Signed (c.Binary two.Lt kind.Signed (c.Temp 2) (c.Const 1))) (c.Then (c.Set 4 (c.Const 1)) (c.Then (c.Set 2 (c.Binary two.Add kind.Signed (c.Temp 2) (c.Const 1))) c.End)) (c.Then c.Break c.End)) c.End)) (c.Then (c.If (c.Nonzero kind.Signed (c.Binary two.Ne kind.Signed (c.Temp 1) (c.Const 1))) (c.Then (c.Set 0 (c.Binary two.Add kind.Signed (c.Temp 1) (c.Const 1))) c.End) (c.Then (c.Set 0 (c.Const 2)) c.End)) (c.Then (c.Return (Some (c.Temp 1))) c.End)))))) }) (s.Then 1 (s.Set ([]) ([])) s.NoBlock (s.Then 2 (s.Set ([]) ([])) s.NoBlock (s.Then 3 (s.Set ([]) ([])) s.NoBlock (s.Then 4 (s.While (record { opened = (sort.Int ∷ []); facts = ((Rel relation.Le (Number (pos 0)) (Var 0 sort.Int)) ∷ (Rel relation.Le (Var 0 sort.Int) (Number (pos 1))) ∷ []); locals = ((name_s, (Of unary.Vi (Number (pos 0)))) ∷ (name_t, (Of unary.Vi (Number (pos 0)))) ∷ (name_i, (Of unary.Vi (Var 0 sort.Int))) ∷ []); items = ((Data (Number (pos 64)) (Global name_arr) (Of2 binary.Cons (Of unary.Vi (Number (pos 1))) (Of2 binary.Cons (Of unary.Vi (Number (pos 2))) (Of2 binary.Cons (Of unary.Vi (Number (pos 0))) (Of2 binary.Cons (Of unary.Vi (Number (pos 0))) Nil))))) ∷ []) }) (record { opened = (sort.Int ∷ []); facts = ((Rel relation.Le (Number (pos 4)) (Var 0 sort.Int)) ∷ (Rel relation.Le (Var 0 sort.Int) (Number (pos 1))) ∷ (Rel relation.Le (Number (pos 1)) (Var 0 sort.Int)) ∷ []); locals = ((name_s, (Of unary.Vi (Number (pos 0)))) ∷ (name_t, (Of unary.Vi (Number (pos 0)))) ∷ (name_i, (Of unary.Vi (Var 0 sort.Int))) ∷ []); items = ((Data (Number (pos 64)) (Global name_arr) (Of2 binary.Cons (Of unary.Vi (Number (pos 1))) (Of2 binary.Cons (Of unary.Vi (Number (pos 2))) (Of2 binary.Cons (Of unary.Vi (Number (pos 0))) (Of2 binary.Cons (Of unary.Vi (Number (pos 0))) Nil))))) ∷ []) }) (name_k2 ∷ []) ([]) (name_k1 ∷ [])) (s.WithBlock (s.Then 5 (s.Meet ((Number (pos 0)) ∷ []) ([])) s.NoBlock s.End) (s.WithBlock (s.Then 6 (s.If ([]) ((record { lines = ((line.Comb (((pos 1), 0) ∷ ((pos 1), 2) ∷ [])) ∷ []) }) ∷ (record { lines = ((line.Comb (((pos 1), 1) ∷ ((pos 1), 2) ∷ [])) ∷ []) }) ∷ []) ([]) ([])) (s.WithBlock (s.Then 7 (s.Set ([]) ([])) s.NoBlock (s.Then 8 (s.Set ([]) ((record { lines = ((line.Comb (((pos 1), 0) ∷ ((pos 1), 3) ∷ [])) ∷ []) }) ∷ (record { lines = ((line.Comb (((pos 1), 1) ∷ ((pos 1), 3) ∷ [])) ∷ []) }) ∷ (record { lines = ((line.Comb (((pos 1), 0) ∷ ((pos 1), 3) ∷ [])) ∷ []) }) ∷ (record { lines = ((line.Comb (((pos 1), 1) ∷ ((pos 1), 3) ∷ [])) ∷ []) }) ∷ [])) s.NoBlock (s.Then 9 (s.Have (Rel relation.Le (Number (pos 0)) (Number (pos 7))) ([])) s.NoBlock (s.Then 10 (s.Fall ((Of2 binary.Add (Named name_k1) (Number (pos 1))) ∷ []) ((record { lines = ((line.Comb (((pos 1), 0) ∷ ((pos 1), 4) ∷ [])) ∷ []) }) ∷ [])) s.NoBlock s.End)))) (s.WithBlock (s.Then 11 (s.Break ((Named name_k1) ∷ []) ([])) s.NoBlock s.End) s.NoBlock)) s.End) s.NoBlock)) (s.Then 12 (s.If ([]) ([]) ([]) ([])) (s.WithBlock (s.Then 13 (s.Set ([]) ([])) s.NoBlock (s.Then 14 (s.Return ((Of2 binary.Cons (Of unary.Vi (Number (pos 1))) (Of2 binary.Cons (Of unary.Vi (Number (pos 2))) (Of2 binary.Cons (Of unary.Vi (Number (pos 0))) (Of2 binary.Cons (Of unary.Vi (Number (pos 0))) Nil)))) ∷ []) ([]) ([])) s.NoBlock s.End)) (s.WithBlock (s.Then 15 (s.Absurd ([])) s.NoBlock s.End) s.NoBlock)) s.End))))) ≡ (RefusedAt 11 7 3)
unfolding computing
random_686 = refl

random_687 : body_verdict (record { predicates = ([]); specs = ((record { is_void = false; name = name_main; params = ([]); vars = []; pre = (record { opened = []; facts = ([]); locals = []; items = ((Data (Number (pos 64)) (Global name_arr) (Of2 binary.Cons (Of unary.Vi (Number (pos 1))) (Of2 binary.Cons (Of unary.Vi (Number (pos 2))) (Of2 binary.Cons (Of unary.Vi (Number (pos 0))) (Of2 binary.Cons (Of unary.Vi (Number (pos 0))) Nil))))) ∷ []) }); post = (record { opened = (sort.List ∷ []); facts = ([]); locals = []; items = ((Data (Number (pos 64)) (Global name_arr) (Var 1 sort.List)) ∷ []) }) }) ∷ []) }) (record { is_void = false; name = name_main; params = ([]); vars = []; pre = (record { opened = []; facts = ([]); locals = []; items = ((Data (Number (pos 64)) (Global name_arr) (Of2 binary.Cons (Of unary.Vi (Number (pos 1))) (Of2 binary.Cons (Of unary.Vi (Number (pos 2))) (Of2 binary.Cons (Of unary.Vi (Number (pos 0))) (Of2 binary.Cons (Of unary.Vi (Number (pos 0))) Nil))))) ∷ []) }); post = (record { opened = (sort.List ∷ []); facts = ([]); locals = []; items = ((Data (Number (pos 64)) (Global name_arr) (Var 1 sort.List)) ∷ []) }) }) (record { temps = (name_s ∷ name_t ∷ name_i ∷ name_x1 ∷ name_d0 ∷ name_p1 ∷ name_q1 ∷ []); body = (c.Then (c.Set 0 (c.Const 0)) (c.Then (c.Set 1 (c.Const 0)) (c.Then (c.Set 2 (c.Const 0)) (c.Then (c.Loop (c.Then (c.If (c.Nonzero kind.Signed (c.Binary two.Lt kind.Signed (c.Temp 2) (c.Const 1))) (c.Then (c.Set 4 (c.Const 1)) (c.Then (c.Set 2 (c.Binary two.Add kind.Signed (c.Temp 2) (c.Const 1))) c.End)) (c.Then c.Break c.End)) c.End)) (c.Then (c.If (c.Nonzero kind.Signed (c.Binary two.Ne kind.Signed (c.Temp 1) (c.Const 1))) c.End (c.Then (c.Set 0 (c.Const 2)) c.End)) (c.Then (c.Return (Some (c.Temp 1))) c.End)))))) }) (s.Then 1 (s.Set ([]) ([])) s.NoBlock (s.Then 2 (s.Set ([]) ([])) s.NoBlock (s.Then 3 (s.While (record { opened = (sort.Int ∷ []); facts = ((Rel relation.Le (Number (pos 0)) (Var 0 sort.Int)) ∷ (Rel relation.Le (Var 0 sort.Int) (Number (pos 1))) ∷ []); locals = ((name_s, (Of unary.Vi (Number (pos 0)))) ∷ (name_t, (Of unary.Vi (Number (pos 0)))) ∷ (name_i, (Of unary.Vi (Var 0 sort.Int))) ∷ []); items = ((Data (Number (pos 64)) (Global name_arr) (Of2 binary.Cons (Of unary.Vi (Number (pos 1))) (Of2 binary.Cons (Of unary.Vi (Number (pos 2))) (Of2 binary.Cons (Of unary.Vi (Number (pos 0))) (Of2 binary.Cons (Of unary.Vi (Number (pos 0))) Nil))))) ∷ []) }) (record { opened = (sort.Int ∷ []); facts = ((Rel relation.Le (Number (pos 0)) (Var 0 sort.Int)) ∷ (Rel relation.Le (Var 0 sort.Int) (Number (pos 1))) ∷ (Rel relation.Le (Number (pos 1)) (Var 0 sort.Int)) ∷ []); locals = ((name_s, (Of unary.Vi (Number (pos 0)))) ∷ (name_t, (Of unary.Vi (Number (pos 0)))) ∷ (name_i, (Of unary.Vi (Var 0 sort.Int))) ∷ []); items = ((Data (Number (pos 64)) (Global name_arr) (Of2 binary.Cons (Of unary.Vi (Number (pos 1))) (Of2 binary.Cons (Of unary.Vi (Number (pos 2))) (Of2 binary.Cons (Of unary.Vi (Number (pos 0))) (Of2 binary.Cons (Of unary.Vi (Number (pos 0))) Nil))))) ∷ []) }) (name_k2 ∷ []) ([]) (name_k1 ∷ [])) (s.WithBlock (s.Then 4 (s.Meet ((Number (pos 0)) ∷ []) ([])) s.NoBlock s.End) (s.WithBlock (s.Then 5 (s.If ([]) ((record { lines = ((line.Comb (((pos 1), 0) ∷ ((pos 1), 2) ∷ [])) ∷ []) }) ∷ (record { lines = ((line.Comb (((pos 1), 1) ∷ ((pos 1), 2) ∷ [])) ∷ []) }) ∷ []) ([]) ([])) (s.WithBlock (s.Then 6 (s.Set ([]) ([])) s.NoBlock (s.Then 7 (s.Set ([]) ((record { lines = ((line.Comb (((pos 1), 0) ∷ ((pos 1), 3) ∷ [])) ∷ []) }) ∷ (record { lines = ((line.Comb (((pos 1), 1) ∷ ((pos 1), 3) ∷ [])) ∷ []) }) ∷ (record { lines = ((line.Comb (((pos 1), 0) ∷ ((pos 1), 3) ∷ [])) ∷ []) }) ∷ (record { lines = ((line.Comb (((pos 1), 1) ∷ ((pos 1), 3) ∷ [])) ∷ []) }) ∷ [])) s.NoBlock (s.Then 8 (s.Have (Rel relation.Le (Number (pos 0)) (Number (pos 7))) ([])) s.NoBlock (s.Then 9 (s.Fall ((Of2 binary.Add (Named name_k1) (Number (pos 1))) ∷ []) ((record { lines = ((line.Comb (((pos 1), 0) ∷ ((pos 1), 4) ∷ [])) ∷ []) }) ∷ [])) s.NoBlock s.End)))) (s.WithBlock (s.Then 10 (s.Break ((Named name_k1) ∷ []) ([])) s.NoBlock s.End) s.NoBlock)) s.End) s.NoBlock)) (s.Then 11 (s.If ([]) ([]) ([]) ([])) (s.WithBlock (s.Then 12 (s.Set ([]) ([])) s.NoBlock (s.Then 13 (s.Return ((Of2 binary.Cons (Of unary.Vi (Number (pos 1))) (Of2 binary.Cons (Of unary.Vi (Number (pos 2))) (Of2 binary.Cons (Of unary.Vi (Number (pos 0))) (Of2 binary.Cons (Of unary.Vi (Number (pos 0))) Nil)))) ∷ []) ([]) ([])) s.NoBlock s.End)) (s.WithBlock (s.Then 14 (s.Absurd ([])) s.NoBlock s.End) s.NoBlock)) s.End)))) ≡ (RefusedAt 3 6 1)
unfolding computing
random_687 = refl

random_688 : body_verdict (record { predicates = ([]); specs = ((record { is_void = false; name = name_main; params = ([]); vars = []; pre = (record { opened = []; facts = ([]); locals = []; items = ((Data (Number (pos 64)) (Global name_arr) (Of2 binary.Cons (Of unary.Vi (Number (pos 1))) (Of2 binary.Cons (Of unary.Vi (Number (pos 2))) (Of2 binary.Cons (Of unary.Vi (Number (pos 0))) (Of2 binary.Cons (Of unary.Vi (Number (pos 0))) Nil))))) ∷ []) }); post = (record { opened = (sort.List ∷ []); facts = ([]); locals = []; items = ((Data (Number (pos 64)) (Global name_arr) (Var 1 sort.List)) ∷ []) }) }) ∷ []) }) (record { is_void = false; name = name_main; params = ([]); vars = []; pre = (record { opened = []; facts = ([]); locals = []; items = ((Data (Number (pos 64)) (Global name_arr) (Of2 binary.Cons (Of unary.Vi (Number (pos 1))) (Of2 binary.Cons (Of unary.Vi (Number (pos 2))) (Of2 binary.Cons (Of unary.Vi (Number (pos 0))) (Of2 binary.Cons (Of unary.Vi (Number (pos 0))) Nil))))) ∷ []) }); post = (record { opened = (sort.List ∷ []); facts = ([]); locals = []; items = ((Data (Number (pos 64)) (Global name_arr) (Var 1 sort.List)) ∷ []) }) }) (record { temps = (name_s ∷ name_t ∷ name_i ∷ name_x1 ∷ name_d0 ∷ name_p1 ∷ name_q1 ∷ []); body = (c.Then (c.Set 0 (c.Const 0)) (c.Then (c.Set 1 (c.Const 0)) (c.Then (c.Set 2 (c.Const 0)) (c.Then (c.Loop (c.Then (c.If (c.Nonzero kind.Signed (c.Binary two.Lt kind.Signed (c.Temp 2) (c.Const 1))) (c.Then (c.Set 4 (c.Const 1)) (c.Then (c.Set 2 (c.Binary two.Add kind.Signed (c.Temp 2) (c.Const 1))) c.End)) (c.Then c.Break c.End)) c.End)) (c.Then (c.If (c.Nonzero kind.Signed (c.Binary two.Ne kind.Signed (c.Temp 1) (c.Const 1))) (c.Then (c.Set 0 (c.Binary two.Add kind.Signed (c.Temp 1) (c.Const 1))) c.End) (c.Then (c.Set 0 (c.Const 2)) c.End)) (c.Then (c.Return (Some (c.Temp 1))) c.End)))))) }) (s.Then 1 (s.Set ([]) ([])) s.NoBlock (s.Then 2 (s.Set ([]) ([])) s.NoBlock (s.Then 3 (s.Set ([]) ([])) s.NoBlock (s.Then 4 (s.While (record { opened = (sort.Int ∷ []); facts = ((Rel relation.Le (Number (pos 0)) (Var 0 sort.Int)) ∷ (Rel relation.Le (Var 0 sort.Int) (Number (pos 1))) ∷ []); locals = ((name_s, (Of unary.Vi (Number (pos 0)))) ∷ (name_t, (Of unary.Vi (Number (pos 0)))) ∷ (name_i, (Of unary.Vi (Var 0 sort.Int))) ∷ []); items = ((Data (Number (pos 64)) (Global name_arr) (Of2 binary.Cons (Of unary.Vi (Number (pos 1))) (Of2 binary.Cons (Of unary.Vi (Number (pos 2))) (Of2 binary.Cons (Of unary.Vi (Number (pos 0))) (Of2 binary.Cons (Of unary.Vi (Number (pos 0))) Nil))))) ∷ []) }) (record { opened = (sort.Int ∷ []); facts = ((Rel relation.Le (Number (pos 0)) (Var 0 sort.Int)) ∷ (Rel relation.Le (Var 0 sort.Int) (Number (pos 1))) ∷ (Rel relation.Le (Number (pos 1)) (Var 0 sort.Int)) ∷ []); locals = ((name_s, (Of unary.Vi (Number (pos 0)))) ∷ (name_t, (Of unary.Vi (Number (pos 0)))) ∷ (name_i, (Of unary.Vi (Var 0 sort.Int))) ∷ []); items = ((Data (Number (pos 64)) (Global name_arr) (Of2 binary.Cons (Of unary.Vi (Number (pos 1))) (Of2 binary.Cons (Of unary.Vi (Number (pos 2))) (Of2 binary.Cons (Of unary.Vi (Number (pos 0))) (Of2 binary.Cons (Of unary.Vi (Number (pos 0))) Nil))))) ∷ []) }) (name_k2 ∷ []) ([]) (name_k1 ∷ [])) (s.WithBlock s.End (s.WithBlock (s.Then 5 (s.If ([]) ((record { lines = ((line.Comb (((pos 1), 0) ∷ ((pos 1), 2) ∷ [])) ∷ []) }) ∷ (record { lines = ((line.Comb (((pos 1), 1) ∷ ((pos 1), 2) ∷ [])) ∷ []) }) ∷ []) ([]) ([])) (s.WithBlock (s.Then 6 (s.Set ([]) ([])) s.NoBlock (s.Then 7 (s.Set ([]) ((record { lines = ((line.Comb (((pos 1), 0) ∷ ((pos 1), 3) ∷ [])) ∷ []) }) ∷ (record { lines = ((line.Comb (((pos 1), 1) ∷ ((pos 1), 3) ∷ [])) ∷ []) }) ∷ (record { lines = ((line.Comb (((pos 1), 0) ∷ ((pos 1), 3) ∷ [])) ∷ []) }) ∷ (record { lines = ((line.Comb (((pos 1), 1) ∷ ((pos 1), 3) ∷ [])) ∷ []) }) ∷ [])) s.NoBlock (s.Then 8 (s.Have (Rel relation.Le (Number (pos 0)) (Number (pos 7))) ([])) s.NoBlock (s.Then 9 (s.Fall ((Of2 binary.Add (Named name_k1) (Number (pos 1))) ∷ []) ((record { lines = ((line.Comb (((pos 1), 0) ∷ ((pos 1), 4) ∷ [])) ∷ []) }) ∷ [])) s.NoBlock s.End)))) (s.WithBlock (s.Then 10 (s.Break ((Named name_k1) ∷ []) ([])) s.NoBlock s.End) s.NoBlock)) s.End) s.NoBlock)) (s.Then 11 (s.If ([]) ([]) ([]) ([])) (s.WithBlock (s.Then 12 (s.Set ([]) ([])) s.NoBlock (s.Then 13 (s.Return ((Of2 binary.Cons (Of unary.Vi (Number (pos 1))) (Of2 binary.Cons (Of unary.Vi (Number (pos 2))) (Of2 binary.Cons (Of unary.Vi (Number (pos 0))) (Of2 binary.Cons (Of unary.Vi (Number (pos 0))) Nil)))) ∷ []) ([]) ([])) s.NoBlock s.End)) (s.WithBlock (s.Then 14 (s.Absurd ([])) s.NoBlock s.End) s.NoBlock)) s.End))))) ≡ (RefusedAt 5 0 10)
unfolding computing
random_688 = refl

random_689 : body_verdict (record { predicates = ([]); specs = ((record { is_void = false; name = name_main; params = ([]); vars = []; pre = (record { opened = []; facts = ([]); locals = []; items = ((Data (Number (pos 64)) (Global name_arr) (Of2 binary.Cons (Of unary.Vi (Number (pos 1))) (Of2 binary.Cons (Of unary.Vi (Number (pos 2))) (Of2 binary.Cons (Of unary.Vi (Number (pos 0))) (Of2 binary.Cons (Of unary.Vi (Number (pos 0))) Nil))))) ∷ []) }); post = (record { opened = (sort.List ∷ []); facts = ([]); locals = []; items = ((Data (Number (pos 64)) (Global name_arr) (Var 1 sort.List)) ∷ []) }) }) ∷ []) }) (record { is_void = false; name = name_main; params = ([]); vars = []; pre = (record { opened = []; facts = ([]); locals = []; items = ((Data (Number (pos 64)) (Global name_arr) (Of2 binary.Cons (Of unary.Vi (Number (pos 1))) (Of2 binary.Cons (Of unary.Vi (Number (pos 2))) (Of2 binary.Cons (Of unary.Vi (Number (pos 0))) (Of2 binary.Cons (Of unary.Vi (Number (pos 0))) Nil))))) ∷ []) }); post = (record { opened = (sort.List ∷ []); facts = ([]); locals = []; items = ((Data (Number (pos 64)) (Global name_arr) (Var 1 sort.List)) ∷ []) }) }) (record { temps = (name_s ∷ name_t ∷ name_i ∷ name_x1 ∷ name_d0 ∷ name_p1 ∷ name_q1 ∷ []); body = (c.Then (c.Set 0 (c.Const 0)) (c.Then (c.Set 1 (c.Const 0)) (c.Then (c.Set 2 (c.Const 0)) (c.Then (c.Loop (c.Then (c.If (c.Nonzero kind.Signed (c.Binary two.Lt kind.Signed (c.Temp 2) (c.Const 1))) (c.Then (c.Set 4 (c.Const 1)) (c.Then (c.Set 2 (c.Binary two.Add kind.Signed (c.Temp 2) (c.Const 1))) c.End)) (c.Then c.Break c.End)) c.End)) (c.Then (c.If (c.Nonzero kind.Signed (c.Binary two.Ne kind.Signed (c.Temp 1) (c.Const 1))) (c.Then (c.Set 0 (c.Binary two.Add kind.Signed (c.Temp 1) (c.Const 1))) c.End) (c.Then (c.Set 0 (c.Const 2)) c.End)) (c.Then (c.Return (Some (c.Temp 1))) c.End)))))) }) (s.Then 1 (s.Set ([]) ([])) s.NoBlock (s.Then 2 (s.Set ([]) ([])) s.NoBlock (s.Then 3 (s.Set ([]) ([])) s.NoBlock (s.Then 4 (s.While (record { opened = (sort.Int ∷ []); facts = ((Rel relation.Le (Number (pos 0)) (Var 0 sort.Int)) ∷ (Rel relation.Le (Var 0 sort.Int) (Number (pos 1))) ∷ []); locals = ((name_s, (Of unary.Vi (Number (pos 0)))) ∷ (name_t, (Of unary.Vi (Number (pos 0)))) ∷ (name_i, (Of unary.Vi (Var 0 sort.Int))) ∷ []); items = ((Data (Number (pos 64)) (Global name_arr) (Of2 binary.Cons (Of unary.Vi (Number (pos 1))) (Of2 binary.Cons (Of unary.Vi (Number (pos 2))) (Of2 binary.Cons (Of unary.Vi (Number (pos 0))) (Of2 binary.Cons (Of unary.Vi (Number (pos 0))) Nil))))) ∷ []) }) (record { opened = (sort.Int ∷ []); facts = ((Rel relation.Le (Number (pos 0)) (Var 0 sort.Int)) ∷ (Rel relation.Le (Var 0 sort.Int) (Number (pos 1))) ∷ (Rel relation.Le (Number (pos 1)) (Var 0 sort.Int)) ∷ []); locals = ((name_s, (Of unary.Vi (Number (pos 0)))) ∷ (name_t, (Of unary.Vi (Number (pos 0)))) ∷ (name_i, (Of unary.Vi (Var 0 sort.Int))) ∷ []); items = ((Data (Number (pos 64)) (Global name_arr) (Of2 binary.Cons (Of unary.Vi (Number (pos 1))) (Of2 binary.Cons (Of unary.Vi (Number (pos 2))) (Of2 binary.Cons (Of unary.Vi (Number (pos 0))) (Of2 binary.Cons (Of unary.Vi (Number (pos 0))) Nil))))) ∷ []) }) (name_k2 ∷ []) ([]) (name_k1 ∷ [])) (s.WithBlock (s.Then 5 (s.Meet ((Number (pos 0)) ∷ []) ([])) s.NoBlock s.End) (s.WithBlock (s.Then 6 (s.If ([]) ((record { lines = ((line.Comb (((pos 1), 0) ∷ ((pos 1), 2) ∷ [])) ∷ []) }) ∷ (record { lines = ((line.Comb (((pos 1), 1) ∷ ((pos 1), 2) ∷ [])) ∷ []) }) ∷ []) ([]) ([])) (s.WithBlock (s.Then 7 (s.Set ([]) ((record { lines = ((line.Comb (((pos 1), 0) ∷ ((pos 1), 3) ∷ [])) ∷ []) }) ∷ (record { lines = ((line.Comb (((pos 1), 1) ∷ ((pos 1), 3) ∷ [])) ∷ []) }) ∷ (record { lines = ((line.Comb (((pos 1), 0) ∷ ((pos 1), 3) ∷ [])) ∷ []) }) ∷ (record { lines = ((line.Comb (((pos 1), 1) ∷ ((pos 1), 3) ∷ [])) ∷ []) }) ∷ [])) s.NoBlock (s.Then 8 (s.Have (Rel relation.Le (Number (pos 0)) (Number (pos 7))) ([])) s.NoBlock (s.Then 9 (s.Fall ((Of2 binary.Add (Named name_k1) (Number (pos 1))) ∷ []) ((record { lines = ((line.Comb (((pos 1), 0) ∷ ((pos 1), 4) ∷ [])) ∷ []) }) ∷ [])) s.NoBlock s.End))) (s.WithBlock (s.Then 10 (s.Break ((Named name_k1) ∷ []) ([])) s.NoBlock s.End) s.NoBlock)) s.End) s.NoBlock)) (s.Then 11 (s.If ([]) ([]) ([]) ([])) (s.WithBlock (s.Then 12 (s.Set ([]) ([])) s.NoBlock (s.Then 13 (s.Return ((Of2 binary.Cons (Of unary.Vi (Number (pos 1))) (Of2 binary.Cons (Of unary.Vi (Number (pos 2))) (Of2 binary.Cons (Of unary.Vi (Number (pos 0))) (Of2 binary.Cons (Of unary.Vi (Number (pos 0))) Nil)))) ∷ []) ([]) ([])) s.NoBlock s.End)) (s.WithBlock (s.Then 14 (s.Absurd ([])) s.NoBlock s.End) s.NoBlock)) s.End))))) ≡ (RefusedAt 7 2 3)
unfolding computing
random_689 = refl

random_690 : body_verdict (record { predicates = ([]); specs = ((record { is_void = false; name = name_main; params = ([]); vars = []; pre = (record { opened = []; facts = ([]); locals = []; items = ((Data (Number (pos 64)) (Global name_arr) (Of2 binary.Cons (Of unary.Vi (Number (pos 1))) (Of2 binary.Cons (Of unary.Vi (Number (pos 2))) (Of2 binary.Cons (Of unary.Vi (Number (pos 0))) (Of2 binary.Cons (Of unary.Vi (Number (pos 0))) Nil))))) ∷ []) }); post = (record { opened = (sort.List ∷ []); facts = ([]); locals = []; items = ((Data (Number (pos 64)) (Global name_arr) (Var 1 sort.List)) ∷ []) }) }) ∷ []) }) (record { is_void = false; name = name_main; params = ([]); vars = []; pre = (record { opened = []; facts = ([]); locals = []; items = ((Data (Number (pos 64)) (Global name_arr) (Of2 binary.Cons (Of unary.Vi (Number (pos 1))) (Of2 binary.Cons (Of unary.Vi (Number (pos 2))) (Of2 binary.Cons (Of unary.Vi (Number (pos 0))) (Of2 binary.Cons (Of unary.Vi (Number (pos 0))) Nil))))) ∷ []) }); post = (record { opened = (sort.List ∷ []); facts = ([]); locals = []; items = ((Data (Number (pos 64)) (Global name_arr) (Var 1 sort.List)) ∷ []) }) }) (record { temps = (name_s ∷ name_t ∷ name_i ∷ name_x1 ∷ name_d0 ∷ name_p1 ∷ name_q1 ∷ []); body = (c.Then (c.Set 0 (c.Const 0)) (c.Then (c.Set 1 (c.Const 0)) (c.Then (c.Set 2 (c.Const 0)) (c.Then (c.Loop (c.Then (c.If (c.Nonzero kind.Signed (c.Binary two.Lt kind.Signed (c.Temp 2) (c.Const 1))) (c.Then (c.Set 4 (c.Const 1)) (c.Then (c.Set 2 (c.Binary two.Add kind.Signed (c.Temp 2) (c.Const 1))) c.End)) (c.Then c.Break c.End)) c.End)) (c.Then (c.If (c.Nonzero kind.Signed (c.Binary two.Ne kind.Signed (c.Temp 1) (c.Const 1))) (c.Then (c.Set 0 (c.Binary two.Add kind.Signed (c.Temp 1) (c.Const 1))) c.End) (c.Then (c.Set 0 (c.Const 2)) c.End)) (c.Then (c.Return (Some (c.Temp 1))) c.End)))))) }) (s.Then 1 (s.Set ([]) ([])) s.NoBlock (s.Then 2 (s.Set ([]) ([])) s.NoBlock (s.Then 3 (s.Set ([]) ([])) s.NoBlock (s.Then 4 (s.While (record { opened = (sort.Int ∷ []); facts = ((Rel relation.Le (Number (pos 0)) (Var 0 sort.Int)) ∷ (Rel relation.Le (Var 0 sort.Int) (Number (pos 1))) ∷ []); locals = ((name_s, (Of unary.Vi (Number (pos 0)))) ∷ (name_t, (Of unary.Vi (Number (pos 0)))) ∷ (name_i, (Of unary.Vi (Var 0 sort.Int))) ∷ []); items = ((Data (Number (pos 64)) (Global name_arr) (Of2 binary.Cons (Of unary.Vi (Number (pos 1))) (Of2 binary.Cons (Of unary.Vi (Number (pos 2))) (Of2 binary.Cons (Of unary.Vi (Number (pos 0))) (Of2 binary.Cons (Of unary.Vi (Number (pos 0))) Nil))))) ∷ []) }) (record { opened = (sort.Int ∷ []); facts = ((Rel relation.Le (Number (pos 0)) (Var 0 sort.Int)) ∷ (Rel relation.Le (Var 0 sort.Int) (Number (pos 1))) ∷ (Rel relation.Le (Number (pos 1)) (Var 0 sort.Int)) ∷ []); locals = ((name_s, (Of unary.Vi (Number (pos 0)))) ∷ (name_t, (Of unary.Vi (Number (pos 0)))) ∷ (name_i, (Of unary.Vi (Var 0 sort.Int))) ∷ []); items = ((Data (Number (pos 64)) (Global name_arr) (Of2 binary.Cons (Of unary.Vi (Number (pos 1))) (Of2 binary.Cons (Of unary.Vi (Number (pos 2))) (Of2 binary.Cons (Of unary.Vi (Number (pos 0))) (Of2 binary.Cons (Of unary.Vi (Number (pos 0))) Nil))))) ∷ []) }) (name_k2 ∷ []) ([]) (name_k1 ∷ [])) (s.WithBlock (s.Then 5 (s.Meet ((Number (pos 0)) ∷ []) ([])) s.NoBlock s.End) (s.WithBlock (s.Then 6 (s.If ([]) ((record { lines = ((line.Comb (((pos 1), 0) ∷ ((pos 1), 2) ∷ [])) ∷ []) }) ∷ (record { lines = ((line.Comb (((pos 1), 1) ∷ ((pos 1), 2) ∷ [])) ∷ []) }) ∷ []) ([]) ([])) (s.WithBlock (s.Then 7 (s.Set ([]) ([])) s.NoBlock (s.Then 8 (s.Set ([]) ((record { lines = ((line.Comb (((pos 1), 0) ∷ ((pos 1), 3) ∷ [])) ∷ []) }) ∷ (record { lines = ((line.Comb (((pos 1), 1) ∷ ((pos 1), 3) ∷ [])) ∷ []) }) ∷ (record { lines = ((line.Comb (((pos 1), 0) ∷ ((pos 1), 3) ∷ [])) ∷ []) }) ∷ (record { lines = ((line.Comb (((pos 1), 1) ∷ ((pos 1), 3) ∷ [])) ∷ []) }) ∷ [])) s.NoBlock (s.Then 9 (s.FreeLock 0 1 ([]) ([])) s.NoBlock (s.Then 10 (s.Fall ((Of2 binary.Add (Named name_k1) (Number (pos 1))) ∷ []) ((record { lines = ((line.Comb (((pos 1), 0) ∷ ((pos 1), 4) ∷ [])) ∷ []) }) ∷ [])) s.NoBlock s.End)))) (s.WithBlock (s.Then 11 (s.Break ((Named name_k1) ∷ []) ([])) s.NoBlock s.End) s.NoBlock)) s.End) s.NoBlock)) (s.Then 12 (s.If ([]) ([]) ([]) ([])) (s.WithBlock (s.Then 13 (s.Set ([]) ([])) s.NoBlock (s.Then 14 (s.Return ((Of2 binary.Cons (Of unary.Vi (Number (pos 1))) (Of2 binary.Cons (Of unary.Vi (Number (pos 2))) (Of2 binary.Cons (Of unary.Vi (Number (pos 0))) (Of2 binary.Cons (Of unary.Vi (Number (pos 0))) Nil)))) ∷ []) ([]) ([])) s.NoBlock s.End)) (s.WithBlock (s.Then 15 (s.Absurd ([])) s.NoBlock s.End) s.NoBlock)) s.End))))) ≡ (RefusedAt 9 19 1)
unfolding computing
random_690 = refl

random_691 : body_verdict (record { predicates = ([]); specs = ((record { is_void = false; name = name_main; params = ([]); vars = []; pre = (record { opened = []; facts = ([]); locals = []; items = ((Data (Number (pos 64)) (Global name_arr) (Of2 binary.Cons (Of unary.Vi (Number (pos 1))) (Of2 binary.Cons (Of unary.Vi (Number (pos 2))) (Of2 binary.Cons (Of unary.Vi (Number (pos 0))) (Of2 binary.Cons (Of unary.Vi (Number (pos 0))) Nil))))) ∷ []) }); post = (record { opened = (sort.List ∷ []); facts = ([]); locals = []; items = ((Data (Number (pos 64)) (Global name_arr) (Var 1 sort.List)) ∷ []) }) }) ∷ []) }) (record { is_void = false; name = name_main; params = ([]); vars = []; pre = (record { opened = []; facts = ([]); locals = []; items = ((Data (Number (pos 64)) (Global name_arr) (Of2 binary.Cons (Of unary.Vi (Number (pos 1))) (Of2 binary.Cons (Of unary.Vi (Number (pos 2))) (Of2 binary.Cons (Of unary.Vi (Number (pos 0))) (Of2 binary.Cons (Of unary.Vi (Number (pos 0))) Nil))))) ∷ []) }); post = (record { opened = (sort.List ∷ []); facts = ([]); locals = []; items = ((Data (Number (pos 64)) (Global name_arr) (Var 1 sort.List)) ∷ []) }) }) (record { temps = (name_s ∷ name_t ∷ name_i ∷ name_x1 ∷ name_d0 ∷ name_p1 ∷ name_q1 ∷ []); body = (c.Then (c.Set 0 (c.Const 0)) (c.Then (c.Set 1 (c.Const 0)) (c.Then (c.Set 2 (c.Const 0)) (c.Then (c.Loop (c.Then (c.If (c.Nonzero kind.Signed (c.Binary two.Lt kind.Signed (c.Temp 2) (c.Const 1))) (c.Then (c.Set 4 (c.Const 1)) (c.Then (c.Set 2 (c.Binary two.Add kind.Signed (c.Temp 2) (c.Const 1))) c.End)) (c.Then c.Break c.End)) c.End)) (c.Then (c.If (c.Nonzero kind.Signed (c.Binary two.Ne kind.Signed (c.Temp 1) (c.Const 1))) (c.Then (c.Set 0 (c.Binary two.Add kind.Signed (c.Temp 1) (c.Const 1))) c.End) (c.Then (c.Set 0 (c.Const 2)) c.End)) (c.Then (c.Return (Some (c.Temp 1))) c.End)))))) }) (s.Then 1 (s.Set ([]) ([])) s.NoBlock (s.Then 2 (s.Set ([]) ([])) s.NoBlock (s.Then 3 (s.Set ([]) ([])) s.NoBlock (s.Then 4 (s.While (record { opened = (sort.Int ∷ []); facts = ((Rel relation.Le (Number (pos 0)) (Var 0 sort.Int)) ∷ (Rel relation.Le (Var 0 sort.Int) (Number (pos 1))) ∷ []); locals = ((name_s, (Of unary.Vi (Number (pos 0)))) ∷ (name_t, (Of unary.Vi (Number (pos 0)))) ∷ (name_i, (Of unary.Vi (Var 0 sort.Int))) ∷ []); items = ((Data (Number (pos 64)) (Global name_arr) (Of2 binary.Cons (Of unary.Vi (Number (pos 1))) (Of2 binary.Cons (Of unary.Vi (Number (pos 2))) (Of2 binary.Cons (Of unary.Vi (Number (pos 0))) (Of2 binary.Cons (Of unary.Vi (Number (pos 0))) Nil))))) ∷ []) }) (record { opened = (sort.Int ∷ []); facts = ((Rel relation.Le (Number (pos 0)) (Var 0 sort.Int)) ∷ (Rel relation.Le (Var 0 sort.Int) (Number (pos 1))) ∷ (Rel relation.Le (Number (pos 1)) (Var 0 sort.Int)) ∷ []); locals = ((name_s, (Of unary.Vi (Number (pos 0)))) ∷ (name_t, (Of unary.Vi (Number (pos 63)))) ∷ (name_i, (Of unary.Vi (Var 0 sort.Int))) ∷ []); items = ((Data (Number (pos 64)) (Global name_arr) (Of2 binary.Cons (Of unary.Vi (Number (pos 1))) (Of2 binary.Cons (Of unary.Vi (Number (pos 2))) (Of2 binary.Cons (Of unary.Vi (Number (pos 0))) (Of2 binary.Cons (Of unary.Vi (Number (pos 0))) Nil))))) ∷ []) }) (name_k2 ∷ []) ([]) (name_k1 ∷ [])) (s.WithBlock (s.Then 5 (s.Meet ((Number (pos 0)) ∷ []) ([])) s.NoBlock s.End) (s.WithBlock (s.Then 6 (s.If ([]) ((record { lines = ((line.Comb (((pos 1), 0) ∷ ((pos 1), 2) ∷ [])) ∷ []) }) ∷ (record { lines = ((line.Comb (((pos 1), 1) ∷ ((pos 1), 2) ∷ [])) ∷ []) }) ∷ []) ([]) ([])) (s.WithBlock (s.Then 7 (s.Set ([]) ([])) s.NoBlock (s.Then 8 (s.Set ([]) ((record { lines = ((line.Comb (((pos 1), 0) ∷ ((pos 1), 3) ∷ [])) ∷ []) }) ∷ (record { lines = ((line.Comb (((pos 1), 1) ∷ ((pos 1), 3) ∷ [])) ∷ []) }) ∷ (record { lines = ((line.Comb (((pos 1), 0) ∷ ((pos 1), 3) ∷ [])) ∷ []) }) ∷ (record { lines = ((line.Comb (((pos 1), 1) ∷ ((pos 1), 3) ∷ [])) ∷ []) }) ∷ [])) s.NoBlock (s.Then 9 (s.Have (Rel relation.Le (Number (pos 0)) (Number (pos 7))) ([])) s.NoBlock (s.Then 10 (s.Fall ((Of2 binary.Add (Named name_k1) (Number (pos 1))) ∷ []) ((record { lines = ((line.Comb (((pos 1), 0) ∷ ((pos 1), 4) ∷ [])) ∷ []) }) ∷ [])) s.NoBlock s.End)))) (s.WithBlock (s.Then 11 (s.Break ((Named name_k1) ∷ []) ([])) s.NoBlock s.End) s.NoBlock)) s.End) s.NoBlock)) (s.Then 12 (s.If ([]) ([]) ([]) ([])) (s.WithBlock (s.Then 13 (s.Set ([]) ([])) s.NoBlock (s.Then 14 (s.Return ((Of2 binary.Cons (Of unary.Vi (Number (pos 1))) (Of2 binary.Cons (Of unary.Vi (Number (pos 2))) (Of2 binary.Cons (Of unary.Vi (Number (pos 0))) (Of2 binary.Cons (Of unary.Vi (Number (pos 0))) Nil)))) ∷ []) ([]) ([])) s.NoBlock s.End)) (s.WithBlock (s.Then 15 (s.Absurd ([])) s.NoBlock s.End) s.NoBlock)) s.End))))) ≡ (RefusedAt 11 7 4)
unfolding computing
random_691 = refl

random_692 : body_verdict (record { predicates = ((record { name = name_E; args = ([]); cases = ((record { opened = []; facts = ([]); locals = []; items = ([]) }) ∷ []) }) ∷ []); specs = ((record { is_void = false; name = name_main; params = ([]); vars = []; pre = (record { opened = []; facts = ([]); locals = []; items = ((Data (Number (pos 64)) (Global name_x) (Of2 binary.Cons (Of unary.Vi (Number (pos 3))) Nil)) ∷ []) }); post = (record { opened = []; facts = ((Rel relation.Eq (Var 0 sort.Val) (Of unary.Vi (Number (pos 0)))) ∷ []); locals = []; items = ((Data (Number (pos 64)) (Global name_x) (Of2 binary.Cons (Of unary.Vi (Number (pos 3))) Nil)) ∷ []) }) }) ∷ []) }) (record { is_void = false; name = name_main; params = ([]); vars = []; pre = (record { opened = []; facts = ([]); locals = []; items = ((Data (Number (pos 64)) (Global name_x) (Of2 binary.Cons (Of unary.Vi (Number (pos 3))) Nil)) ∷ []) }); post = (record { opened = []; facts = ((Rel relation.Eq (Var 0 sort.Val) (Of unary.Vi (Number (pos 0)))) ∷ []); locals = []; items = ((Data (Number (pos 64)) (Global name_x) (Of2 binary.Cons (Of unary.Vi (Number (pos 3))) Nil)) ∷ []) }) }) (record { temps = (name_s ∷ name_t ∷ name_i ∷ name_x1 ∷ name_d0 ∷ name_p1 ∷ name_q1 ∷ []); body = (c.Then (c.Set 1 (c.Const 0)) (c.Then (c.Set 0 (c.Binary two.Add kind.Signed (c.Temp 1) (c.Const 2))) (c.Then (c.Load 1 (root.Global name_x 1) c.Here) (c.Then (c.Load 0 (root.Global name_x 1) c.Here) (c.Then (c.Return (Some (c.Const 0))) c.End))))) }) (s.Then 1 (s.Set ([]) ([])) s.NoBlock (s.Then 2 (s.Set ([]) ([])) s.NoBlock (s.Then 3 (s.Load 0 ([]) ([])) s.NoBlock (s.Then 4 (s.Load 0 ([]) ([])) s.NoBlock (s.Then 5 (s.Return ([]) ([]) ([])) s.NoBlock s.End))))) ≡ Accepted
unfolding computing
random_692 = refl

random_693 : body_verdict (record { predicates = ((record { name = name_E; args = ([]); cases = ((record { opened = []; facts = ([]); locals = []; items = ([]) }) ∷ []) }) ∷ []); specs = ((record { is_void = false; name = name_main; params = ([]); vars = []; pre = (record { opened = []; facts = ([]); locals = []; items = ((Data (Number (pos 64)) (Global name_x) (Of2 binary.Cons (Of unary.Vi (Number (pos 3))) Nil)) ∷ []) }); post = (record { opened = []; facts = ((Rel relation.Eq (Var 0 sort.Val) (Of unary.Vi (Number (pos 0)))) ∷ []); locals = []; items = ((Data (Number (pos 64)) (Global name_x) (Of2 binary.Cons (Of unary.Vi (Number (pos 3))) Nil)) ∷ []) }) }) ∷ []) }) (record { is_void = false; name = name_main; params = ([]); vars = []; pre = (record { opened = []; facts = ([]); locals = []; items = ((Data (Number (pos 64)) (Global name_x) (Of2 binary.Cons (Of unary.Vi (Number (pos 3))) Nil)) ∷ []) }); post = (record { opened = []; facts = ((Rel relation.Eq (Var 0 sort.Val) (Of unary.Vi (Number (pos 0)))) ∷ []); locals = []; items = ((Data (Number (pos 64)) (Global name_x) (Of2 binary.Cons (Of unary.Vi (Number (pos 3))) Nil)) ∷ []) }) }) (record { temps = (name_s ∷ name_t ∷ name_i ∷ name_x1 ∷ name_d0 ∷ name_p1 ∷ name_q1 ∷ []); body = (c.Then (c.Set 1 (c.Const 0)) (c.Then (c.Set 0 (c.Binary two.Add kind.Signed (c.Temp 1) (c.Const 2))) (c.Then (c.Load 1 (root.Global name_x 1) c.Here) (c.Then (c.Load 0 (root.Global name_x 1) c.Here) (c.Then (c.Return (Some (c.Const 0))) c.End))))) }) (s.Then 1 (s.Set ([]) ([])) s.NoBlock (s.Then 2 (s.Set ([]) ([])) s.NoBlock (s.Then 3 (s.Load 0 ([]) ([])) s.NoBlock (s.Then 4 (s.Return ([]) ([]) ([])) s.NoBlock s.End)))) ≡ (RefusedAt 4 9 1)
unfolding computing
random_693 = refl

random_694 : body_verdict (record { predicates = ((record { name = name_E; args = ([]); cases = ((record { opened = []; facts = ([]); locals = []; items = ([]) }) ∷ []) }) ∷ []); specs = ((record { is_void = false; name = name_main; params = ([]); vars = []; pre = (record { opened = []; facts = ([]); locals = []; items = ((Data (Number (pos 64)) (Global name_x) (Of2 binary.Cons (Of unary.Vi (Number (pos 3))) Nil)) ∷ []) }); post = (record { opened = []; facts = ((Rel relation.Eq (Var 0 sort.Val) (Of unary.Vi (Number (pos 0)))) ∷ []); locals = []; items = ((Data (Number (pos 64)) (Global name_x) (Of2 binary.Cons (Of unary.Vi (Number (pos 3))) Nil)) ∷ []) }) }) ∷ []) }) (record { is_void = false; name = name_main; params = ([]); vars = []; pre = (record { opened = []; facts = ([]); locals = []; items = ((Data (Number (pos 64)) (Global name_x) (Of2 binary.Cons (Of unary.Vi (Number (pos 3))) Nil)) ∷ []) }); post = (record { opened = []; facts = ((Rel relation.Eq (Var 0 sort.Val) (Of unary.Vi (Number (pos 0)))) ∷ []); locals = []; items = ((Data (Number (pos 64)) (Global name_x) (Of2 binary.Cons (Of unary.Vi (Number (pos 3))) Nil)) ∷ []) }) }) (record { temps = (name_s ∷ name_t ∷ name_i ∷ name_x1 ∷ name_d0 ∷ name_p1 ∷ name_q1 ∷ []); body = (c.Then (c.Set 1 (c.Const 0)) (c.Then (c.Set 0 (c.Binary two.Add kind.Signed (c.Temp 1) (c.Const 2))) (c.Then (c.Load 1 (root.Global name_x 1) c.Here) (c.Then (c.Load 0 (root.Global name_x 1) c.Here) (c.Then (c.Return (Some (c.Const 0))) c.End))))) }) (s.Then 1 (s.Set ([]) ([])) s.NoBlock (s.Then 2 (s.Set ([]) ([])) s.NoBlock (s.Then 3 (s.Set ([]) ([])) s.NoBlock (s.Then 4 (s.Load 0 ([]) ([])) s.NoBlock (s.Then 5 (s.Load 0 ([]) ([])) s.NoBlock (s.Then 6 (s.Return ([]) ([]) ([])) s.NoBlock s.End)))))) ≡ (RefusedAt 3 2 1)
unfolding computing
random_694 = refl

random_695 : body_verdict (record { predicates = ((record { name = name_E; args = ([]); cases = ((record { opened = []; facts = ([]); locals = []; items = ([]) }) ∷ []) }) ∷ []); specs = ((record { is_void = false; name = name_main; params = ([]); vars = []; pre = (record { opened = []; facts = ([]); locals = []; items = ((Data (Number (pos 64)) (Global name_x) (Of2 binary.Cons (Of unary.Vi (Number (pos 3))) Nil)) ∷ []) }); post = (record { opened = []; facts = ((Rel relation.Eq (Var 0 sort.Val) (Of unary.Vi (Number (pos 0)))) ∷ []); locals = []; items = ((Data (Number (pos 64)) (Global name_x) (Of2 binary.Cons (Of unary.Vi (Number (pos 3))) Nil)) ∷ []) }) }) ∷ []) }) (record { is_void = false; name = name_main; params = ([]); vars = []; pre = (record { opened = []; facts = ([]); locals = []; items = ((Data (Number (pos 64)) (Global name_x) (Of2 binary.Cons (Of unary.Vi (Number (pos 3))) Nil)) ∷ []) }); post = (record { opened = []; facts = ((Rel relation.Eq (Var 0 sort.Val) (Of unary.Vi (Number (pos 0)))) ∷ []); locals = []; items = ((Data (Number (pos 64)) (Global name_x) (Of2 binary.Cons (Of unary.Vi (Number (pos 3))) Nil)) ∷ []) }) }) (record { temps = (name_s ∷ name_t ∷ name_i ∷ name_x1 ∷ name_d0 ∷ name_p1 ∷ name_q1 ∷ []); body = (c.Then (c.Set 1 (c.Const 0)) (c.Then (c.Set 0 (c.Binary two.Add kind.Signed (c.Temp 1) (c.Const 2))) (c.Then (c.Load 1 (root.Global name_x 1) c.Here) (c.Then (c.Load 0 (root.Global name_x 1) c.Here) (c.Then (c.Return (Some (c.Const 0))) c.End))))) }) (s.Then 1 (s.Set ([]) ([])) s.NoBlock (s.Then 2 (s.Set ([]) ([])) s.NoBlock (s.Then 3 (s.Load 0 ([]) ([])) s.NoBlock (s.Then 4 (s.Set ([]) ([])) s.NoBlock (s.Then 5 (s.Load 0 ([]) ([])) s.NoBlock (s.Then 6 (s.Return ([]) ([]) ([])) s.NoBlock s.End)))))) ≡ (RefusedAt 4 2 1)
unfolding computing
random_695 = refl

random_696 : body_verdict (record { predicates = ((record { name = name_E; args = ([]); cases = ((record { opened = []; facts = ([]); locals = []; items = ([]) }) ∷ []) }) ∷ []); specs = ((record { is_void = false; name = name_main; params = ([]); vars = []; pre = (record { opened = []; facts = ([]); locals = []; items = ((Data (Number (pos 64)) (Global name_x) (Of2 binary.Cons (Of unary.Vi (Number (pos 3))) Nil)) ∷ []) }); post = (record { opened = []; facts = ((Rel relation.Eq (Var 0 sort.Val) (Of unary.Vi (Number (pos 0)))) ∷ []); locals = []; items = ((Data (Number (pos 64)) (Global name_x) (Of2 binary.Cons (Of unary.Vi (Number (pos 3))) Nil)) ∷ []) }) }) ∷ []) }) (record { is_void = false; name = name_main; params = ([]); vars = []; pre = (record { opened = []; facts = ([]); locals = []; items = ((Data (Number (pos 64)) (Global name_x) (Of2 binary.Cons (Of unary.Vi (Number (pos 3))) Nil)) ∷ []) }); post = (record { opened = []; facts = ((Rel relation.Eq (Var 0 sort.Val) (Of unary.Vi (Number (pos 0)))) ∷ []); locals = []; items = ((Data (Number (pos 64)) (Global name_x) (Of2 binary.Cons (Of unary.Vi (Number (pos 3))) Nil)) ∷ []) }) }) (record { temps = (name_s ∷ name_t ∷ name_i ∷ name_x1 ∷ name_d0 ∷ name_p1 ∷ name_q1 ∷ []); body = (c.Then (c.Set 1 (c.Const 0)) (c.Then (c.Set 0 (c.Binary two.Add kind.Signed (c.Temp 1) (c.Const 2))) (c.Then (c.Load 1 (root.Global name_x 1) c.Here) (c.Then (c.Load 0 (root.Global name_x 1) c.Here) (c.Then (c.Return (Some (c.Const 0))) c.End))))) }) (s.Then 1 (s.Set ([]) ([])) s.NoBlock (s.Then 2 (s.Load 0 ([]) ([])) s.NoBlock (s.Then 3 (s.Set ([]) ([])) s.NoBlock (s.Then 4 (s.Load 0 ([]) ([])) s.NoBlock (s.Then 5 (s.Load 0 ([]) ([])) s.NoBlock (s.Then 6 (s.Return ([]) ([]) ([])) s.NoBlock s.End)))))) ≡ (RefusedAt 2 3 1)
unfolding computing
random_696 = refl

random_697 : body_verdict (record { predicates = ((record { name = name_E; args = ([]); cases = ((record { opened = []; facts = ([]); locals = []; items = ([]) }) ∷ []) }) ∷ []); specs = ((record { is_void = false; name = name_main; params = ([]); vars = []; pre = (record { opened = []; facts = ([]); locals = []; items = ((Data (Number (pos 64)) (Global name_x) (Of2 binary.Cons (Of unary.Vi (Number (pos 3))) Nil)) ∷ []) }); post = (record { opened = []; facts = ((Rel relation.Eq (Var 0 sort.Val) (Of unary.Vi (Number (pos 0)))) ∷ []); locals = []; items = ((Data (Number (pos 64)) (Global name_x) (Of2 binary.Cons (Of unary.Vi (Number (pos 3))) Nil)) ∷ []) }) }) ∷ []) }) (record { is_void = false; name = name_main; params = ([]); vars = []; pre = (record { opened = []; facts = ([]); locals = []; items = ((Data (Number (pos 64)) (Global name_x) (Of2 binary.Cons (Of unary.Vi (Number (pos 3))) Nil)) ∷ []) }); post = (record { opened = []; facts = ((Rel relation.Eq (Var 0 sort.Val) (Of unary.Vi (Number (pos 0)))) ∷ []); locals = []; items = ((Data (Number (pos 64)) (Global name_x) (Of2 binary.Cons (Of unary.Vi (Number (pos 3))) Nil)) ∷ []) }) }) (record { temps = (name_s ∷ name_t ∷ name_i ∷ name_x1 ∷ name_d0 ∷ name_p1 ∷ name_q1 ∷ []); body = (c.Then (c.Set 1 (c.Const 0)) (c.Then (c.Set 0 (c.Binary two.Add kind.Signed (c.Temp 1) (c.Const 2))) (c.Then (c.Load 1 (root.Global name_x 1) c.Here) (c.Then (c.Load 0 (root.Global name_x 1) c.Here) (c.Then (c.Return (Some (c.Const 0))) c.End))))) }) (s.Then 1 (s.Absurd ([])) s.NoBlock (s.Then 2 (s.Set ([]) ([])) s.NoBlock (s.Then 3 (s.Load 0 ([]) ([])) s.NoBlock (s.Then 4 (s.Load 0 ([]) ([])) s.NoBlock (s.Then 5 (s.Return ([]) ([]) ([])) s.NoBlock s.End))))) ≡ (RefusedAt 1 24 3)
unfolding computing
random_697 = refl

random_698 : body_verdict (record { predicates = ((record { name = name_E; args = ([]); cases = ((record { opened = []; facts = ([]); locals = []; items = ([]) }) ∷ []) }) ∷ []); specs = ((record { is_void = false; name = name_main; params = ([]); vars = []; pre = (record { opened = []; facts = ([]); locals = []; items = ((Data (Number (pos 64)) (Global name_x) (Of2 binary.Cons (Of unary.Vi (Number (pos 3))) Nil)) ∷ []) }); post = (record { opened = []; facts = ((Rel relation.Eq (Var 0 sort.Val) (Of unary.Vi (Number (pos 0)))) ∷ []); locals = []; items = ((Data (Number (pos 64)) (Global name_x) (Of2 binary.Cons (Of unary.Vi (Number (pos 3))) Nil)) ∷ []) }) }) ∷ []) }) (record { is_void = false; name = name_main; params = ([]); vars = []; pre = (record { opened = []; facts = ([]); locals = []; items = ((Data (Number (pos 64)) (Global name_x) (Of2 binary.Cons (Of unary.Vi (Number (pos 3))) Nil)) ∷ []) }); post = (record { opened = []; facts = ((Rel relation.Eq (Var 0 sort.Val) (Of unary.Vi (Number (pos 0)))) ∷ []); locals = []; items = ((Data (Number (pos 64)) (Global name_x) (Of2 binary.Cons (Of unary.Vi (Number (pos 3))) Nil)) ∷ []) }) }) (record { temps = (name_s ∷ name_t ∷ name_i ∷ name_x1 ∷ name_d0 ∷ name_p1 ∷ name_q1 ∷ []); body = (c.Then (c.Set 1 (c.Const 0)) (c.Then (c.Set 0 (c.Binary two.Add kind.Signed (c.Temp 1) (c.Const 2))) (c.Then (c.Load 1 (root.Global name_x 1) c.Here) (c.Then (c.Load 0 (root.Global name_x 1) c.Here) (c.Then (c.Return (Some (c.Const 0))) c.End))))) }) (s.Then 1 (s.Set ([]) ([])) s.NoBlock (s.Then 2 (s.Load 0 ([]) ([])) s.NoBlock (s.Then 3 (s.Load 0 ([]) ([])) s.NoBlock (s.Then 4 (s.Return ([]) ([]) ([])) s.NoBlock s.End)))) ≡ (RefusedAt 2 3 1)
unfolding computing
random_698 = refl

random_699 : body_verdict (record { predicates = ((record { name = name_E; args = ([]); cases = ((record { opened = []; facts = ([]); locals = []; items = ([]) }) ∷ []) }) ∷ []); specs = ((record { is_void = false; name = name_main; params = ([]); vars = []; pre = (record { opened = []; facts = ([]); locals = []; items = ((Data (Number (pos 64)) (Global name_x) (Of2 binary.Cons (Of unary.Vi (Number (pos 3))) Nil)) ∷ []) }); post = (record { opened = []; facts = ((Rel relation.Eq (Var 0 sort.Val) (Of unary.Vi (Number (pos 2147483647)))) ∷ []); locals = []; items = ((Data (Number (pos 64)) (Global name_x) (Of2 binary.Cons (Of unary.Vi (Number (pos 3))) Nil)) ∷ []) }) }) ∷ []) }) (record { is_void = false; name = name_main; params = ([]); vars = []; pre = (record { opened = []; facts = ([]); locals = []; items = ((Data (Number (pos 64)) (Global name_x) (Of2 binary.Cons (Of unary.Vi (Number (pos 3))) Nil)) ∷ []) }); post = (record { opened = []; facts = ((Rel relation.Eq (Var 0 sort.Val) (Of unary.Vi (Number (pos 2147483647)))) ∷ []); locals = []; items = ((Data (Number (pos 64)) (Global name_x) (Of2 binary.Cons (Of unary.Vi (Number (pos 3))) Nil)) ∷ []) }) }) (record { temps = (name_s ∷ name_t ∷ name_i ∷ name_x1 ∷ name_d0 ∷ name_p1 ∷ name_q1 ∷ []); body = (c.Then (c.Set 1 (c.Const 0)) (c.Then (c.Set 0 (c.Binary two.Add kind.Signed (c.Temp 1) (c.Const 2))) (c.Then (c.Load 1 (root.Global name_x 1) c.Here) (c.Then (c.Load 0 (root.Global name_x 1) c.Here) (c.Then (c.Return (Some (c.Const 0))) c.End))))) }) (s.Then 1 (s.Set ([]) ([])) s.NoBlock (s.Then 2 (s.Set ([]) ([])) s.NoBlock (s.Then 3 (s.Load 0 ([]) ([])) s.NoBlock (s.Then 4 (s.Load 0 ([]) ([])) s.NoBlock (s.Then 5 (s.Return ([]) ([]) ([])) s.NoBlock s.End))))) ≡ (RefusedAt 5 9 3)
unfolding computing
random_699 = refl

random_700 : body_verdict (record { predicates = ([]); specs = ((record { is_void = false; name = name_main; params = ([]); vars = []; pre = (record { opened = []; facts = ([]); locals = []; items = ((Data (Number (pos 64)) (Global name_arr) (Of2 binary.Cons (Of unary.Vi (Number (pos 1))) (Of2 binary.Cons (Of unary.Vi (Number (pos 2))) (Of2 binary.Cons (Of unary.Vi (Number (pos 0))) (Of2 binary.Cons (Of unary.Vi (Number (pos 0))) Nil))))) ∷ (Data (Number (pos 64)) (Global name_x) (Of2 binary.Cons (Of unary.Vi (Number (pos 3))) Nil)) ∷ (Data (Number (pos 64)) (Global name_g) (Of2 binary.Cons (Of unary.Vi (Number (pos 3))) Nil)) ∷ []) }); post = (record { opened = []; facts = ((Rel relation.Eq (Var 0 sort.Val) (Of unary.Vi (Number (pos 7)))) ∷ []); locals = []; items = ((Data (Number (pos 64)) (Global name_arr) (Of2 binary.Cons (Of unary.Vi (Number (pos 1))) (Of2 binary.Cons (Of unary.Vi (Number (pos 2))) (Of2 binary.Cons (Of unary.Vi (Number (pos 0))) (Of2 binary.Cons (Of unary.Vi (Number (pos 0))) Nil))))) ∷ (Data (Number (pos 64)) (Global name_x) (Of2 binary.Cons (Of unary.Vi (Number (pos 3))) Nil)) ∷ (Data (Number (pos 64)) (Global name_g) (Of2 binary.Cons (Of unary.Vi (Number (pos 3))) Nil)) ∷ []) }) }) ∷ []) }) (record { is_void = false; name = name_main; params = ([]); vars = []; pre = (record { opened = []; facts = ([]); locals = []; items = ((Data (Number (pos 64)) (Global name_arr) (Of2 binary.Cons (Of unary.Vi (Number (pos 1))) (Of2 binary.Cons (Of unary.Vi (Number (pos 2))) (Of2 binary.Cons (Of unary.Vi (Number (pos 0))) (Of2 binary.Cons (Of unary.Vi (Number (pos 0))) Nil))))) ∷ (Data (Number (pos 64)) (Global name_x) (Of2 binary.Cons (Of unary.Vi (Number (pos 3))) Nil)) ∷ (Data (Number (pos 64)) (Global name_g) (Of2 binary.Cons (Of unary.Vi (Number (pos 3))) Nil)) ∷ []) }); post = (record { opened = []; facts = ((Rel relation.Eq (Var 0 sort.Val) (Of unary.Vi (Number (pos 7)))) ∷ []); locals = []; items = ((Data (Number (pos 64)) (Global name_arr) (Of2 binary.Cons (Of unary.Vi (Number (pos 1))) (Of2 binary.Cons (Of unary.Vi (Number (pos 2))) (Of2 binary.Cons (Of unary.Vi (Number (pos 0))) (Of2 binary.Cons (Of unary.Vi (Number (pos 0))) Nil))))) ∷ (Data (Number (pos 64)) (Global name_x) (Of2 binary.Cons (Of unary.Vi (Number (pos 3))) Nil)) ∷ (Data (Number (pos 64)) (Global name_g) (Of2 binary.Cons (Of unary.Vi (Number (pos 3))) Nil)) ∷ []) }) }) (record { temps = (name_s ∷ name_t ∷ name_i ∷ name_x1 ∷ name_d0 ∷ name_p1 ∷ name_q1 ∷ []); body = (c.Then (c.Set 0 (c.Const 0)) (c.Then (c.Set 6 (c.Address (root.Global name_g 1) c.Here)) (c.Then (c.If (c.Pointers (c.Temp 6) (c.Address (root.Global name_g 1) c.Here) true) (c.Then (c.Set 0 (c.Const 1)) c.End) c.End) (c.Then (c.Set 0 (c.Const 3)) (c.Then (c.Return (Some (c.Const 7))) c.End))))) }) (s.Then 1 (s.Set ([]) ([])) s.NoBlock (s.Then 2 (s.Set ([]) ([])) s.NoBlock (s.Then 3 (s.If (2 ∷ 2 ∷ []) ([]) ([]) ([])) (s.WithBlock (s.Then 4 (s.Set ([]) ([])) s.NoBlock (s.Then 5 (s.Set ([]) ([])) s.NoBlock (s.Then 6 (s.Return ([]) ([]) ([])) s.NoBlock s.End))) (s.WithBlock (s.Then 7 (s.Absurd ([])) s.NoBlock s.End) s.NoBlock)) s.End))) ≡ Accepted
unfolding computing
random_700 = refl
