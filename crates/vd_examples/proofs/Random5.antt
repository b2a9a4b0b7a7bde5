-- Random works.
use Rattle.std.specs.Prelude.{◌≡◌, refl, pos, [], ◌∷◌, true, false, Some, None}
use Rattle.vd_terms.specs.Terms.{Number, Var, Named, Global, Undef, Nil, Of, Of2, Of3}
use Rattle.vd_terms.specs.declared.assertion.FactOf.TheVariants.{Rel, IsInt}
use Rattle.vd_terms.specs.declared.assertion.ItemOf.TheVariants.{Data, Lock, Pred}
use Rattle.vd_rules.specs.Computing.{computing}
use Rattle.vd_rules.specs.Verdicts.{Accepted, RefusedAt, body_verdict}
use Rattle.vd_terms.specs.declared.operation.Unary.TheVariants as unary
use Rattle.vd_terms.specs.declared.operation.Binary.TheVariants as binary
use Rattle.vd_terms.specs.declared.operation.Ternary.TheVariants as ternary
use Rattle.vd_logic.specs.declared.term.Sort.TheVariants as sort
use Rattle.vd_logic.specs.declared.assertion.Rel.TheVariants as relation
use Rattle.vd_logic.specs.declared.step.CertLine.TheVariants as line
use Rattle.vd_logic.specs.declared.step.Occurrence.TheVariants as occurrence
use Rattle.vd_logic.specs.declared.step.Forgotten.TheVariants as forgotten
use Rattle.vd_clight.specs.declared.syntax.UnOp.TheVariants as one
use Rattle.vd_clight.specs.declared.syntax.BinOp.TheVariants as two
use Rattle.vd_clight.specs.declared.typed.Kind.TheVariants as kind
use Rattle.vd_clight.specs.declared.typed.Root.TheVariants as root
use Rattle.vd_clight.specs.declared.typed.LockOp.TheVariants as lock
use Rattle.vd_steps.specs.Code as c
use Rattle.vd_steps.specs.Script as s
use Rattle.vd_examples.specs.Names.{name_E, name_a, name_a0, name_arr, name_band_hi, name_d0, name_e2, name_f, name_g, name_get, name_h0, name_h1, name_i, name_i0, name_i1, name_k, name_k1, name_k2, name_k3, name_k4, name_k5, name_k6, name_l, name_l2, name_len_upd, name_main, name_n, name_n0, name_o, name_o0, name_ov, name_p, name_p00, name_p1, name_pos, name_put, name_q0, name_q1, name_r2, name_s, name_s0, name_s1, name_sub_all, name_t, name_two, name_v, name_v0, name_w, name_w0, name_w1, name_x, name_x1, name_zz}

random_401 : body_verdict (record { predicates = ([]); specs = ((record { is_void = true; name = name_put; params = (name_p ∷ name_k ∷ []); vars = ((name_v, sort.Val) ∷ (name_w, sort.Val) ∷ (name_o, sort.Val) ∷ []); pre = (record { opened = []; facts = ([]); locals = ((name_p, (Var 0 sort.Val)) ∷ (name_k, (Var 1 sort.Val)) ∷ []); items = ((Data (Number (pos 64)) (Var 0 sort.Val) (Of2 binary.Cons (Var 2 sort.Val) Nil)) ∷ []) }); post = (record { opened = []; facts = ([]); locals = []; items = ((Data (Number (pos 64)) (Var 0 sort.Val) (Of2 binary.Cons (Var 1 sort.Val) Nil)) ∷ []) }) }) ∷ (record { is_void = false; name = name_f; params = (name_p00 ∷ []); vars = ((name_v0, sort.Val) ∷ (name_o0, sort.Int) ∷ []); pre = (record { opened = []; facts = ((Rel relation.Le (Number (pos 0)) (Var 1 sort.Int)) ∷ (Rel relation.Le (Var 1 sort.Int) (Number (pos 20))) ∷ []); locals = ((name_p00, (Var 0 sort.Val)) ∷ []); items = ((Data (Number (pos 64)) (Var 0 sort.Val) (Of2 binary.Cons (Of unary.Vi (Var 1 sort.Int)) Nil)) ∷ []) }); post = (record { opened = []; facts = ((Rel relation.Eq (Var 2 sort.Val) (Of unary.Vi (Number (pos 0)))) ∷ []); locals = []; items = ((Data (Number (pos 64)) (Var 0 sort.Val) (Of2 binary.Cons (Of unary.Vi (Number (pos 2))) Nil)) ∷ []) }) }) ∷ (record { is_void = false; name = name_main; params = ([]); vars = []; pre = (record { opened = []; facts = ([]); locals = []; items = ([]) }); post = (record { opened = []; facts = ((Rel relation.Eq (Var 0 sort.Val) (Of unary.Vi (Number (pos 0)))) ∷ []); locals = []; items = ([]) }) }) ∷ []) }) (record { is_void = false; name = name_f; params = (name_p00 ∷ []); vars = ((name_v0, sort.Val) ∷ (name_o0, sort.Int) ∷ []); pre = (record { opened = []; facts = ((Rel relation.Le (Number (pos 0)) (Var 1 sort.Int)) ∷ (Rel relation.Le (Var 1 sort.Int) (Number (pos 20))) ∷ []); locals = ((name_p00, (Var 0 sort.Val)) ∷ []); items = ((Data (Number (pos 64)) (Var 0 sort.Val) (Of2 binary.Cons (Of unary.Vi (Var 1 sort.Int)) Nil)) ∷ []) }); post = (record { opened = []; facts = ((Rel relation.Eq (Var 2 sort.Val) (Of unary.Vi (Number (pos 0)))) ∷ []); locals = []; items = ((Data (Number (pos 64)) (Var 0 sort.Val) (Of2 binary.Cons (Of unary.Vi (Number (pos 2))) Nil)) ∷ []) }) }) (record { temps = (name_p00 ∷ name_s ∷ name_t ∷ name_i ∷ name_x1 ∷ name_d0 ∷ name_p1 ∷ name_q1 ∷ []); body = (c.Then (c.Set 1 (c.Const 0)) (c.Then (c.Set 2 (c.Const 1)) (c.Then (c.Set 2 (c.Const 2)) (c.Then (c.Set 4 (c.Unary one.Invert kind.Unsigned (c.Const 0))) (c.Then (c.Set 1 (c.Const 1)) (c.Then (c.Call None name_put ((c.Temp 0) ∷ (c.Temp 2) ∷ [])) (c.Then (c.Return (Some (c.Const 0))) c.End))))))) }) (s.Then 1 (s.Set ([]) ([])) s.NoBlock (s.Then 2 (s.Set ([]) ([])) s.NoBlock (s.Then 3 (s.Set ([]) ([])) s.NoBlock (s.Then 4 (s.Set ([]) ([])) s.NoBlock (s.Then 5 (s.Set ([]) ([])) s.NoBlock (s.Then 6 (s.Have (Rel relation.Le (Number (pos 64)) (Number (pos 64))) ([])) s.NoBlock (s.Then 7 (s.Call ((Named name_v0) ∷ (Of unary.Vi (Number (pos 2))) ∷ (Of unary.Vi (Named name_o0)) ∷ []) ([]) ([]) ([])) s.NoBlock (s.Then 8 (s.Return ([]) ([]) ([])) s.NoBlock s.End)))))))) ≡ Accepted
unfolding computing
random_401 = refl

random_402 : body_verdict (record { predicates = ([]); specs = ((record { is_void = true; name = name_put; params = (name_p ∷ name_k ∷ []); vars = ((name_v, sort.Val) ∷ (name_w, sort.Val) ∷ (name_o, sort.Val) ∷ []); pre = (record { opened = []; facts = ([]); locals = ((name_p, (Var 0 sort.Val)) ∷ (name_k, (Var 1 sort.Val)) ∷ []); items = ((Data (Number (pos 64)) (Var 0 sort.Val) (Of2 binary.Cons (Var 2 sort.Val) Nil)) ∷ []) }); post = (record { opened = []; facts = ([]); locals = []; items = ((Data (Number (pos 64)) (Var 0 sort.Val) (Of2 binary.Cons (Var 1 sort.Val) Nil)) ∷ []) }) }) ∷ (record { is_void = false; name = name_f; params = (name_p00 ∷ []); vars = ((name_v0, sort.Val) ∷ (name_o0, sort.Int) ∷ []); pre = (record { opened = []; facts = ((Rel relation.Le (Number (pos 0)) (Var 1 sort.Int)) ∷ (Rel relation.Le (Var 1 sort.Int) (Number (pos 20))) ∷ []); locals = ((name_p00, (Var 0 sort.Val)) ∷ []); items = ((Data (Number (pos 64)) (Var 0 sort.Val) (Of2 binary.Cons (Of unary.Vi (Var 1 sort.Int)) Nil)) ∷ []) }); post = (record { opened = []; facts = ((Rel relation.Eq (Var 2 sort.Val) (Of unary.Vi (Number (pos 0)))) ∷ []); locals = []; items = ((Data (Number (pos 64)) (Var 0 sort.Val) (Of2 binary.Cons (Of unary.Vi (Number (pos 2))) Nil)) ∷ []) }) }) ∷ (record { is_void = false; name = name_main; params = ([]); vars = []; pre = (record { opened = []; facts = ([]); locals = []; items = ([]) }); post = (record { opened = []; facts = ((Rel relation.Eq (Var 0 sort.Val) (Of unary.Vi (Number (pos 0)))) ∷ []); locals = []; items = ([]) }) }) ∷ []) }) (record { is_void = false; name = name_f; params = (name_p00 ∷ []); vars = ((name_v0, sort.Val) ∷ (name_o0, sort.Int) ∷ []); pre = (record { opened = []; facts = ((Rel relation.Le (Number (pos 0)) (Var 1 sort.Int)) ∷ (Rel relation.Le (Var 1 sort.Int) (Number (pos 20))) ∷ []); locals = ((name_p00, (Var 0 sort.Val)) ∷ []); items = ((Data (Number (pos 64)) (Var 0 sort.Val) (Of2 binary.Cons (Of unary.Vi (Var 1 sort.Int)) Nil)) ∷ []) }); post = (record { opened = []; facts = ((Rel relation.Eq (Var 2 sort.Val) (Of unary.Vi (Number (pos 0)))) ∷ []); locals = []; items = ((Data (Number (pos 64)) (Var 0 sort.Val) (Of2 binary.Cons (Of unary.Vi (Number (pos 2))) Nil)) ∷ []) }) }) (record { temps = (name_p00 ∷ name_s ∷ name_t ∷ name_i ∷ name_x1 ∷ name_d0 ∷ name_p1 ∷ name_q1 ∷ []); body = (c.Then (c.Set 1 (c.Const 0)) (c.Then (c.Set 2 (c.Const 1)) (c.Then (c.Set 2 (c.Const 2)) (c.Then (c.Set 4 (c.Unary one.Invert kind.Unsigned (c.Const 0))) (c.Then (c.Set 1 (c.Const 1)) (c.Then (c.Call None name_put ((c.Temp 0) ∷ (c.Temp 2) ∷ [])) (c.Then (c.Return (Some (c.Const 0))) c.End))))))) }) (s.Then 1 (s.Set ([]) ([])) s.NoBlock (s.Then 2 (s.Set ([]) ([])) s.NoBlock (s.Then 3 (s.Set ([]) ([])) s.NoBlock (s.Then 4 (s.Set ([]) ([])) s.NoBlock (s.Then 5 (s.Set ([]) ([])) s.NoBlock (s.Then 6 (s.Absurd ([])) s.NoBlock (s.Then 7 (s.Bounds 0 None ([])) s.NoBlock (s.Then 8 (s.Have (Rel relation.Le (Number (pos 64)) (Number (pos 64))) ([])) s.NoBlock (s.Then 9 (s.Call ((Named name_v0) ∷ (Of unary.Vi (Number (pos 2))) ∷ (Of unary.Vi (Named name_o0)) ∷ []) ([]) ([]) ([])) s.NoBlock (s.Then 10 (s.Return ([]) ([]) ([])) s.NoBlock s.End)))))))))) ≡ (RefusedAt 6 24 3)
unfolding computing
random_402 = refl

random_403 : body_verdict (record { predicates = ([]); specs = ((record { is_void = true; name = name_put; params = (name_p ∷ name_k ∷ []); vars = ((name_v, sort.Val) ∷ (name_w, sort.Val) ∷ (name_o, sort.Val) ∷ []); pre = (record { opened = []; facts = ([]); locals = ((name_p, (Var 0 sort.Val)) ∷ (name_k, (Var 1 sort.Val)) ∷ []); items = ((Data (Number (pos 64)) (Var 0 sort.Val) (Of2 binary.Cons (Var 2 sort.Val) Nil)) ∷ []) }); post = (record { opened = []; facts = ([]); locals = []; items = ((Data (Number (pos 64)) (Var 0 sort.Val) (Of2 binary.Cons (Var 1 sort.Val) Nil)) ∷ []) }) }) ∷ (record { is_void = false; name = name_f; params = (name_p00 ∷ []); vars = ((name_v0, sort.Val) ∷ (name_o0, sort.Int) ∷ []); pre = (record { opened = []; facts = ((Rel relation.Le (Number (pos 0)) (Var 1 sort.Int)) ∷ (Rel relation.Le (Var 1 sort.Int) (Number (pos 20))) ∷ []); locals = ((name_p00, (Var 0 sort.Val)) ∷ []); items = ((Data (Number (pos 64)) (Var 0 sort.Val) (Of2 binary.Cons (Of unary.Vi (Var 1 sort.Int)) Nil)) ∷ []) }); post = (record { opened = []; facts = ((Rel relation.Eq (Var 2 sort.Val) (Of unary.Vi (Number (pos 0)))) ∷ []); locals = []; items = ((Data (Number (pos 64)) (Var 0 sort.Val) (Of2 binary.Cons (Of unary.Vi (Number (pos 2))) Nil)) ∷ []) }) }) ∷ (record { is_void = false; name = name_main; params = ([]); vars = []; pre = (record { opened = []; facts = ([]); locals = []; items = ([]) }); post = (record { opened = []; facts = ((Rel relation.Eq (Var 0 sort.Val) (Of unary.Vi (Number (pos 0)))) ∷ []); locals = []; items = ([]) }) }) ∷ []) }) (record { is_void = false; name = name_f; params = (name_p00 ∷ []); vars = ((name_v0, sort.Val) ∷ (name_o0, sort.Int) ∷ []); pre = (record { opened = []; facts = ((Rel relation.Le (Number (pos 0)) (Var 1 sort.Int)) ∷ (Rel relation.Le (Var 1 sort.Int) (Number (pos 20))) ∷ []); locals = ((name_p00, (Var 0 sort.Val)) ∷ []); items = ((Data (Number (pos 64)) (Var 0 sort.Val) (Of2 binary.Cons (Of unary.Vi (Var 1 sort.Int)) Nil)) ∷ []) }); post = (record { opened = []; facts = ((Rel relation.Eq (Var 2 sort.Val) (Of unary.Vi (Number (pos 0)))) ∷ []); locals = []; items = ((Data (Number (pos 64)) (Var 0 sort.Val) (Of2 binary.Cons (Of unary.Vi (Number (pos 2))) Nil)) ∷ []) }) }) (record { temps = (name_p00 ∷ name_s ∷ name_t ∷ name_i ∷ name_x1 ∷ name_d0 ∷ name_p1 ∷ name_q1 ∷ []); body = (c.Then (c.Set 1 (c.Const 0)) (c.Then (c.Set 2 (c.Const 1)) (c.Then (c.Set 2 (c.Const 2)) (c.Then (c.Set 4 (c.Unary one.Invert kind.Unsigned (c.Const 0))) (c.Then (c.Set 1 (c.Const 1)) (c.Then (c.Call None name_put ((c.Temp 0) ∷ (c.Temp 2) ∷ [])) (c.Then (c.Return (Some (c.Const 0))) c.End))))))) }) (s.Then 1 (s.Set ([]) ([])) s.NoBlock (s.Then 2 (s.Set ([]) ([])) s.NoBlock (s.Then 3 (s.Set ([]) ([])) s.NoBlock (s.Then 4 (s.Set ([]) ([])) s.NoBlock (s.Then 5 (s.Set ([]) ([])) s.NoBlock (s.Then 6 (s.Bounds 0 None ([])) s.NoBlock (s.Then 7 (s.Set ([]) ([])) s.NoBlock (s.Then 8 (s.Have (Rel relation.Le (Number (pos 64)) (Number (pos 64))) ([])) s.NoBlock (s.Then 9 (s.Call ((Named name_v0) ∷ (Of unary.Vi (Number (pos 2))) ∷ (Of unary.Vi (Named name_o0)) ∷ []) ([]) ([]) ([])) s.NoBlock (s.Then 10 (s.Return ([]) ([]) ([])) s.NoBlock s.End)))))))))) ≡ (RefusedAt 7 2 1)
unfolding computing
random_403 = refl

random_404 : body_verdict (record { predicates = ([]); specs = ((record { is_void = true; name = name_f; params = ([]); vars = []; pre = (record { opened = []; facts = ([]); locals = []; items = ([]) }); post = (record { opened = []; facts = ([]); locals = []; items = ([]) }) }) ∷ (record { is_void = false; name = name_main; params = ([]); vars = []; pre = (record { opened = []; facts = ([]); locals = []; items = ([]) }); post = (record { opened = []; facts = ((Rel relation.Eq (Var 0 sort.Val) (Of unary.Vi (Number (pos 0)))) ∷ []); locals = []; items = ([]) }) }) ∷ []) }) (record { is_void = true; name = name_f; params = ([]); vars = []; pre = (record { opened = []; facts = ([]); locals = []; items = ([]) }); post = (record { opened = []; facts = ([]); locals = []; items = ([]) }) }) (record { temps = (name_s ∷ name_t ∷ name_i ∷ name_x1 ∷ name_d0 ∷ name_p1 ∷ name_q1 ∷ []); body = (c.Then (c.Set 0 (c.Const 2)) (c.Then (c.Set 1 (c.Const 3)) (c.Then (c.Set 2 (c.Const 0)) (c.Then (c.Loop (c.Then (c.If (c.Nonzero kind.Signed (c.Binary two.Lt kind.Signed (c.Temp 2) (c.Const 4))) (c.Then c.Skip (c.Then (c.Set 2 (c.Binary two.Add kind.Signed (c.Temp 2) (c.Const 1))) c.End)) (c.Then c.Break c.End)) c.End)) (c.Then (c.Set 0 (c.Binary two.Lt kind.Signed (c.Temp 1) (c.Const 2))) (c.Then (c.Set 1 (c.Binary two.Div kind.Signed (c.Const 5) (c.Const 1))) c.End)))))) }) (s.Then 1 (s.Set ([]) ([])) s.NoBlock (s.Then 2 (s.Set ([]) ([])) s.NoBlock (s.Then 3 (s.Set ([]) ([])) s.NoBlock (s.Then 4 (s.While (record { opened = (sort.Int ∷ []); facts = ((Rel relation.Le (Number (pos 0)) (Var 0 sort.Int)) ∷ (Rel relation.Le (Var 0 sort.Int) (Number (pos 4))) ∷ []); locals = ((name_s, (Of unary.Vi (Number (pos 2)))) ∷ (name_t, (Of unary.Vi (Number (pos 3)))) ∷ (name_i, (Of unary.Vi (Var 0 sort.Int))) ∷ []); items = ([]) }) (record { opened = (sort.Int ∷ []); facts = ((Rel relation.Le (Number (pos 0)) (Var 0 sort.Int)) ∷ (Rel relation.Le (Var 0 sort.Int) (Number (pos 4))) ∷ (Rel relation.Le (Number (pos 4)) (Var 0 sort.Int)) ∷ []); locals = ((name_s, (Of unary.Vi (Number (pos 2)))) ∷ (name_t, (Of unary.Vi (Number (pos 3)))) ∷ (name_i, (Of unary.Vi (Var 0 sort.Int))) ∷ []); items = ([]) }) (name_k2 ∷ []) ([]) (name_k1 ∷ [])) (s.WithBlock (s.Then 5 (s.Meet ((Number (pos 0)) ∷ []) ([])) s.NoBlock s.End) (s.WithBlock (s.Then 6 (s.If ([]) ((record { lines = ((line.Comb (((pos 1), 0) ∷ ((pos 1), 2) ∷ [])) ∷ []) }) ∷ (record { lines = ((line.Comb (((pos 1), 1) ∷ ((pos 1), 2) ∷ [])) ∷ []) }) ∷ []) ([]) ([])) (s.WithBlock (s.Then 7 s.Skip s.NoBlock (s.Then 8 (s.Set ([]) ((record { lines = ((line.Comb (((pos 1), 0) ∷ ((pos 1), 3) ∷ [])) ∷ []) }) ∷ (record { lines = ((line.Comb (((pos 1), 1) ∷ ((pos 1), 3) ∷ [])) ∷ []) }) ∷ (record { lines = ((line.Comb (((pos 1), 0) ∷ ((pos 1), 3) ∷ [])) ∷ []) }) ∷ (record { lines = ((line.Comb (((pos 1), 1) ∷ ((pos 1), 3) ∷ [])) ∷ []) }) ∷ [])) s.NoBlock (s.Then 9 (s.Fall ((Of2 binary.Add (Named name_k1) (Number (pos 1))) ∷ []) ((record { lines = ((line.Comb (((pos 1), 0) ∷ ((pos 1), 3) ∷ [])) ∷ []) }) ∷ [])) s.NoBlock s.End))) (s.WithBlock (s.Then 10 (s.Break ((Named name_k1) ∷ []) ([])) s.NoBlock s.End) s.NoBlock)) s.End) s.NoBlock)) (s.Then 11 (s.Set ([]) ([])) s.NoBlock (s.Then 12 (s.Set ([]) ([])) s.NoBlock (s.Then 13 (s.Fall ([]) ([])) s.NoBlock s.End))))))) ≡ Accepted
unfolding computing
random_404 = refl

random_405 : body_verdict (record { predicates = ([]); specs = ((record { is_void = true; name = name_f; params = ([]); vars = []; pre = (record { opened = []; facts = ([]); locals = []; items = ([]) }); post = (record { opened = []; facts = ([]); locals = []; items = ([]) }) }) ∷ (record { is_void = false; name = name_main; params = ([]); vars = []; pre = (record { opened = []; facts = ([]); locals = []; items = ([]) }); post = (record { opened = []; facts = ((Rel relation.Eq (Var 0 sort.Val) (Of unary.Vi (Number (pos 0)))) ∷ []); locals = []; items = ([]) }) }) ∷ []) }) (record { is_void = true; name = name_f; params = ([]); vars = []; pre = (record { opened = []; facts = ([]); locals = []; items = ([]) }); post = (record { opened = []; facts = ([]); locals = []; items = ([]) }) }) (record { temps = (name_s ∷ name_t ∷ name_i ∷ name_x1 ∷ name_d0 ∷ name_p1 ∷ name_q1 ∷ []); body = (c.Then (c.Set 0 (c.Const 2)) (c.Then (c.Set 1 (c.Const 3)) (c.Then (c.Set 2 (c.Const 0)) (c.Then (c.Loop (c.Then (c.If (c.Nonzero kind.Signed (c.Binary two.Lt kind.Signed (c.Temp 2) (c.Const 4))) (c.Then c.Skip (c.Then (c.Set 2 (c.Binary two.Add kind.Signed (c.Temp 2) (c.Const 1))) c.End)) (c.Then c.Break c.End)) c.End)) (c.Then (c.Set 0 (c.Binary two.Lt kind.Signed (c.Temp 1) (c.Const 2))) (c.Then (c.Set 1 (c.Binary two.Div kind.Signed (c.Const 5) (c.Const 1))) c.End)))))) }) (s.Then 1 (s.Set ([]) ([])) s.NoBlock (s.Then 2 (s.Set ([]) ([])) s.NoBlock (s.Then 3 (s.Set ([]) ([])) s.NoBlock (s.Then 4 (s.While (record { opened = (sort.Int ∷ []); facts = ((Rel relation.Le (Number (pos 0)) (Var 0 sort.Int)) ∷ (Rel relation.Le (Var 0 sort.Int) (Number (pos 4))) ∷ []); locals = ((name_s, (Of unary.Vi (Number (pos 2)))) ∷ (name_t, (Of unary.Vi (Number (pos 3)))) ∷ (name_i, (Of unary.Vi (Var 0 sort.Int))) ∷ []); items = ([]) }) (record { opened = (sort.Int ∷ []); facts = ((Rel relation.Le (Number (pos 2147483647)) (Var 0 sort.Int)) ∷ (Rel relation.Le (Var 0 sort.Int) (Number (pos 4))) ∷ (Rel relation.Le (Number (pos 4)) (Var 0 sort.Int)) ∷ []); locals = ((name_s, (Of unary.Vi (Number (pos 2)))) ∷ (name_t, (Of unary.Vi (Number (pos 3)))) ∷ (name_i, (Of unary.Vi (Var 0 sort.Int))) ∷ []); items = ([]) }) (name_k2 ∷ []) ([]) (name_k1 ∷ [])) (s.WithBlock (s.Then 5 (s.Meet ((Number (pos 0)) ∷ []) ([])) s.NoBlock s.End) (s.WithBlock (s.Then 6 (s.If ([]) ((record { lines = ((line.Comb (((pos 1), 0) ∷ ((pos 1), 2) ∷ [])) ∷ []) }) ∷ (record { lines = ((line.Comb (((pos 1), 1) ∷ ((pos 1), 2) ∷ [])) ∷ []) }) ∷ []) ([]) ([])) (s.WithBlock (s.Then 7 s.Skip s.NoBlock (s.Then 8 (s.Set ([]) ((record { lines = ((line.Comb (((pos 1), 0) ∷ ((pos 1), 3) ∷ [])) ∷ []) }) ∷ (record { lines = ((line.Comb (((pos 1), 1) ∷ ((pos 1), 3) ∷ [])) ∷ []) }) ∷ (record { lines = ((line.Comb (((pos 1), 0) ∷ ((pos 1), 3) ∷ [])) ∷ []) }) ∷ (record { lines = ((line.Comb (((pos 1), 1) ∷ ((pos 1), 3) ∷ [])) ∷ []) }) ∷ [])) s.NoBlock (s.Then 9 (s.Fall ((Of2 binary.Add (Named name_k1) (Number (pos 1))) ∷ []) ((record { lines = ((line.Comb (((pos 1), 0) ∷ ((pos 1), 3) ∷ [])) ∷ []) }) ∷ [])) s.NoBlock s.End))) (s.WithBlock (s.Then 10 (s.Break ((Named name_k1) ∷ []) ([])) s.NoBlock s.End) s.NoBlock)) s.End) s.NoBlock)) (s.Then 11 (s.Set ([]) ([])) s.NoBlock (s.Then 12 (s.Set ([]) ([])) s.NoBlock (s.Then 13 (s.Fall ([]) ([])) s.NoBlock s.End))))))) ≡ (RefusedAt 10 7 3)
unfolding computing
random_405 = refl

random_406 : body_verdict (record { predicates = ([]); specs = ((record { is_void = true; name = name_f; params = ([]); vars = []; pre = (record { opened = []; facts = ([]); locals = []; items = ([]) }); post = (record { opened = []; facts = ([]); locals = []; items = ([]) }) }) ∷ (record { is_void = false; name = name_main; params = ([]); vars = []; pre = (record { opened = []; facts = ([]); locals = []; items = ([]) }); post = (record { opened = []; facts = ((Rel relation.Eq (Var 0 sort.Val) (Of unary.Vi (Number (pos 0)))) ∷ []); locals = []; items = ([]) }) }) ∷ []) }) (record { is_void = true; name = name_f; params = ([]); vars = []; pre = (record { opened = []; facts = ([]); locals = []; items = ([]) }); post = (record { opened = []; facts = ([]); locals = []; items = ([]) }) }) (record { temps = (name_s ∷ name_t ∷ name_i ∷ name_x1 ∷ name_d0 ∷ name_p1 ∷ name_q1 ∷ []); body = (c.Then (c.Set 0 (c.Const 2)) (c.Then (c.Set 1 (c.Const 3)) (c.Then (c.Set 2 (c.Const 0)) (c.Then (c.Loop (c.Then (c.If (c.Nonzero kind.Signed (c.Binary two.Lt kind.Signed (c.Temp 2) (c.Const 4))) (c.Then c.Skip (c.Then (c.Set 2 (c.Binary two.Add kind.Signed (c.Temp 2) (c.Const 1))) c.End)) (c.Then c.Break c.End)) c.End)) (c.Then (c.Set 0 (c.Binary two.Lt kind.Signed (c.Temp 1) (c.Const 2))) (c.Then (c.Set 1 (c.Binary two.Div kind.Signed (c.Const 5) (c.Const 1))) c.End)))))) }) (s.Then 1 (s.Set ([]) ([])) s.NoBlock (s.Then 2 (s.Set ([]) ([])) s.NoBlock (s.Then 3 (s.While (record { opened = (sort.Int ∷ []); facts = ((Rel relation.Le (Number (pos 0)) (Var 0 sort.Int)) ∷ (Rel relation.Le (Var 0 sort.Int) (Number (pos 4))) ∷ []); locals = ((name_s, (Of unary.Vi (Number (pos 2)))) ∷ (name_t, (Of unary.Vi (Number (pos 3)))) ∷ (name_i, (Of unary.Vi (Var 0 sort.Int))) ∷ []); items = ([]) }) (record { opened = (sort.Int ∷ []); facts = ((Rel relation.Le (Number (pos 0)) (Var 0 sort.Int)) ∷ (Rel relation.Le (Var 0 sort.Int) (Number (pos 4))) ∷ (Rel relation.Le (Number (pos 4)) (Var 0 sort.Int)) ∷ []); locals = ((name_s, (Of unary.Vi (Number (pos 2)))) ∷ (name_t, (Of unary.Vi (Number (pos 3)))) ∷ (name_i, (Of unary.Vi (Var 0 sort.Int))) ∷ []); items = ([]) }) (name_k2 ∷ []) ([]) (name_k1 ∷ [])) (s.WithBlock (s.Then 4 (s.Meet ((Number (pos 0)) ∷ []) ([])) s.NoBlock s.End) (s.WithBlock (s.Then 5 (s.If ([]) ((record { lines = ((line.Comb (((pos 1), 0) ∷ ((pos 1), 2) ∷ [])) ∷ []) }) ∷ (record { lines = ((line.Comb (((pos 1), 1) ∷ ((pos 1), 2) ∷ [])) ∷ []) }) ∷ []) ([]) ([])) (s.WithBlock (s.Then 6 s.Skip s.NoBlock (s.Then 7 (s.Set ([]) ((record { lines = ((line.Comb (((pos 1), 0) ∷ ((pos 1), 3) ∷ [])) ∷ []) }) ∷ (record { lines = ((line.Comb (((pos 1), 1) ∷ ((pos 1), 3) ∷ [])) ∷ []) }) ∷ (record { lines = ((line.Comb (((pos 1), 0) ∷ ((pos 1), 3) ∷ [])) ∷ []) }) ∷ (record { lines = ((line.Comb (((pos 1), 1) ∷ ((pos 1), 3) ∷ [])) ∷ []) }) ∷ [])) s.NoBlock (s.Then 8 (s.Fall ((Of2 binary.Add (Named name_k1) (Number (pos 1))) ∷ []) ((record { lines = ((line.Comb (((pos 1), 0) ∷ ((pos 1), 3) ∷ [])) ∷ []) }) ∷ [])) s.NoBlock s.End))) (s.WithBlock (s.Then 9 (s.Break ((Named name_k1) ∷ []) ([])) s.NoBlock s.End) s.NoBlock)) s.End) s.NoBlock)) (s.Then 10 (s.Set ([]) ([])) s.NoBlock (s.Then 11 (s.Set ([]) ([])) s.NoBlock (s.Then 12 (s.Fall ([]) ([])) s.NoBlock s.End)))))) ≡ (RefusedAt 3 6 1)
unfolding computing
random_406 = refl

random_407 : body_verdict (record { predicates = ([]); specs = ((record { is_void = true; name = name_f; params = ([]); vars = []; pre = (record { opened = []; facts = ([]); locals = []; items = ([]) }); post = (record { opened = []; facts = ([]); locals = []; items = ([]) }) }) ∷ (record { is_void = false; name = name_main; params = ([]); vars = []; pre = (record { opened = []; facts = ([]); locals = []; items = ([]) }); post = (record { opened = []; facts = ((Rel relation.Eq (Var 0 sort.Val) (Of unary.Vi (Number (pos 0)))) ∷ []); locals = []; items = ([]) }) }) ∷ []) }) (record { is_void = true; name = name_f; params = ([]); vars = []; pre = (record { opened = []; facts = ([]); locals = []; items = ([]) }); post = (record { opened = []; facts = ([]); locals = []; items = ([]) }) }) (record { temps = (name_s ∷ name_t ∷ name_i ∷ name_x1 ∷ name_d0 ∷ name_p1 ∷ name_q1 ∷ []); body = (c.Then (c.Set 0 (c.Const 2)) (c.Then (c.Set 1 (c.Const 3)) (c.Then (c.Set 2 (c.Const 0)) (c.Then (c.Loop (c.Then (c.If (c.Nonzero kind.Signed (c.Binary two.Lt kind.Signed (c.Temp 2) (c.Const 4))) (c.Then c.Skip (c.Then (c.Set 2 (c.Binary two.Add kind.Signed (c.Temp 2) (c.Const 1))) c.End)) (c.Then c.Break c.End)) c.End)) (c.Then (c.Set 0 (c.Binary two.Lt kind.Signed (c.Temp 1) (c.Const 2))) (c.Then (c.Set 1 (c.Binary two.Div kind.Signed (c.Const 5) (c.Const 1))) c.End)))))) }) (s.Then 1 (s.Set ([]) ([])) s.NoBlock (s.Then 2 (s.Set ([]) ([])) s.NoBlock (s.Then 3 (s.Set ([]) ([])) s.NoBlock (s.Then 4 (s.While (record { opened = (sort.Int ∷ []); facts = ((Rel relation.Le (Number (pos 0)) (Var 0 sort.Int)) ∷ (Rel relation.Le (Var 0 sort.Int) (Number (pos 4))) ∷ []); locals = ((name_s, (Of unary.Vi (Number (pos 2)))) ∷ (name_t, (Of unary.Vi (Number (pos 3)))) ∷ (name_i, (Of unary.Vi (Var 0 sort.Int))) ∷ []); items = ([]) }) (record { opened = (sort.Int ∷ []); facts = ((Rel relation.Le (Number (pos 0)) (Var 0 sort.Int)) ∷ (Rel relation.Le (Var 0 sort.Int) (Number (pos 4))) ∷ (Rel relation.Le (Number (pos 4)) (Var 0 sort.Int)) ∷ []); locals = ((name_s, (Of unary.Vi (Number (pos 2)))) ∷ (name_t, (Of unary.Vi (Number (pos 3)))) ∷ (name_i, (Of unary.Vi (Var 0 sort.Int))) ∷ []); items = ([]) }) (name_k2 ∷ []) ([]) (name_k1 ∷ [])) (s.WithBlock (s.Then 5 (s.Meet ((Number (pos 0)) ∷ []) ([])) s.NoBlock s.End) (s.WithBlock (s.Then 6 (s.If ([]) ((record { lines = ((line.Comb (((pos 1), 0) ∷ ((pos 1), 2) ∷ [])) ∷ []) }) ∷ (record { lines = ((line.Comb (((pos 1), 1) ∷ ((pos 1), 2) ∷ [])) ∷ []) }) ∷ []) ([]) ([])) (s.WithBlock (s.Then 7 s.Skip s.NoBlock (s.Then 8 (s.Set ([]) ((record { lines = ((line.Comb (((pos 1), 0) ∷ ((pos 1), 3) ∷ [])) ∷ []) }) ∷ (record { lines = ((line.Comb (((pos 1), 1) ∷ ((pos 1), 3) ∷ [])) ∷ []) }) ∷ (record { lines = ((line.Comb (((pos 1), 0) ∷ ((pos 1), 3) ∷ [])) ∷ []) }) ∷ (record { lines = ((line.Comb (((pos 1), 1) ∷ ((pos 1), 3) ∷ [])) ∷ []) }) ∷ [])) s.NoBlock (s.Then 9 (s.Fall ((Of2 binary.Add (Named name_k1) (Number (pos 1))) ∷ []) ((record { lines = ((line.Comb (((pos 1), 0) ∷ ((pos 1), 3) ∷ [])) ∷ []) }) ∷ [])) s.NoBlock s.End))) (s.WithBlock (s.Then 10 (s.Break ((Named name_k1) ∷ (Number (pos 0)) ∷ []) ([])) s.NoBlock s.End) s.NoBlock)) s.End) s.NoBlock)) (s.Then 11 (s.Set ([]) ([])) s.NoBlock (s.Then 12 (s.Set ([]) ([])) s.NoBlock (s.Then 13 (s.Fall ([]) ([])) s.NoBlock s.End))))))) ≡ (RefusedAt 10 7 1)
unfolding computing
random_407 = refl

random_408 : body_verdict (record { predicates = ([]); specs = ((record { is_void = true; name = name_f; params = ([]); vars = []; pre = (record { opened = []; facts = ([]); locals = []; items = ([]) }); post = (record { opened = []; facts = ([]); locals = []; items = ([]) }) }) ∷ (record { is_void = false; name = name_main; params = ([]); vars = []; pre = (record { opened = []; facts = ([]); locals = []; items = ([]) }); post = (record { opened = []; facts = ((Rel relation.Eq (Var 0 sort.Val) (Of unary.Vi (Number (pos 0)))) ∷ []); locals = []; items = ([]) }) }) ∷ []) }) (record { is_void = true; name = name_f; params = ([]); vars = []; pre = (record { opened = []; facts = ([]); locals = []; items = ([]) }); post = (record { opened = []; facts = ([]); locals = []; items = ([]) }) }) (record { temps = (name_s ∷ name_t ∷ name_i ∷ name_x1 ∷ name_d0 ∷ name_p1 ∷ name_q1 ∷ []); body = (c.Then (c.Set 0 (c.Const 2)) (c.Then (c.Set 1 (c.Const 3)) (c.Then (c.Set 2 (c.Const 32)) (c.Then (c.Loop (c.Then (c.If (c.Nonzero kind.Signed (c.Binary two.Lt kind.Signed (c.Temp 2) (c.Const 4))) (c.Then c.Skip (c.Then (c.Set 2 (c.Binary two.Add kind.Signed (c.Temp 2) (c.Const 1))) c.End)) (c.Then c.Break c.End)) c.End)) (c.Then (c.Set 0 (c.Binary two.Lt kind.Signed (c.Temp 1) (c.Const 2))) (c.Then (c.Set 1 (c.Binary two.Div kind.Signed (c.Const 5) (c.Const 1))) c.End)))))) }) (s.Then 1 (s.Set ([]) ([])) s.NoBlock (s.Then 2 (s.Set ([]) ([])) s.NoBlock (s.Then 3 (s.Set ([]) ([])) s.NoBlock (s.Then 4 (s.While (record { opened = (sort.Int ∷ []); facts = ((Rel relation.Le (Number (pos 0)) (Var 0 sort.Int)) ∷ (Rel relation.Le (Var 0 sort.Int) (Number (pos 4))) ∷ []); locals = ((name_s, (Of unary.Vi (Number (pos 2)))) ∷ (name_t, (Of unary.Vi (Number (pos 3)))) ∷ (name_i, (Of unary.Vi (Var 0 sort.Int))) ∷ []); items = ([]) }) (record { opened = (sort.Int ∷ []); facts = ((Rel relation.Le (Number (pos 0)) (Var 0 sort.Int)) ∷ (Rel relation.Le (Var 0 sort.Int) (Number (pos 4))) ∷ (Rel relation.Le (Number (pos 4)) (Var 0 sort.Int)) ∷ []); locals = ((name_s, (Of unary.Vi (Number (pos 2)))) ∷ (name_t, (Of unary.Vi (Number (pos 3)))) ∷ (name_i, (Of unary.Vi (Var 0 sort.Int))) ∷ []); items = ([]) }) (name_k2 ∷ []) ([]) (name_k1 ∷ [])) (s.WithBlock (s.Then 5 (s.Meet ((Number (pos 0)) ∷ []) ([])) s.NoBlock s.End) (s.WithBlock (s.Then 6 (s.If ([]) ((record { lines = ((line.Comb (((pos 1), 0) ∷ ((pos 1), 2) ∷ [])) ∷ []) }) ∷ (record { lines = ((line.Comb (((pos 1), 1) ∷ ((pos 1), 2) ∷ [])) ∷ []) }) ∷ []) ([]) ([])) (s.WithBlock (s.Then 7 s.Skip s.NoBlock (s.Then 8 (s.Set ([]) ((record { lines = ((line.Comb (((pos 1), 0) ∷ ((pos 1), 3) ∷ [])) ∷ []) }) ∷ (record { lines = ((line.Comb (((pos 1), 1) ∷ ((pos 1), 3) ∷ [])) ∷ []) }) ∷ (record { lines = ((line.Comb (((pos 1), 0) ∷ ((pos 1), 3) ∷ [])) ∷ []) }) ∷ (record { lines = ((line.Comb (((pos 1), 1) ∷ ((pos 1), 3) ∷ [])) ∷ []) }) ∷ [])) s.NoBlock (s.Then 9 (s.Fall ((Of2 binary.Add (Named name_k1) (Number (pos 1))) ∷ []) ((record { lines = ((line.Comb (((pos 1), 0) ∷ ((pos 1), 3) ∷ [])) ∷ []) }) ∷ [])) s.NoBlock s.End))) (s.WithBlock (s.Then 10 (s.Break ((Named name_k1) ∷ []) ([])) s.NoBlock s.End) s.NoBlock)) s.End) s.NoBlock)) (s.Then 11 (s.Set ([]) ([])) s.NoBlock (s.Then 12 (s.Set ([]) ([])) s.NoBlock (s.Then 13 (s.Fall ([]) ([])) s.NoBlock s.End))))))) ≡ (RefusedAt 5 37 4)
unfolding computing
random_408 = refl

random_409 : body_verdict (record { predicates = ([]); specs = ((record { is_void = true; name = name_f; params = ([]); vars = []; pre = (record { opened = []; facts = ([]); locals = []; items = ([]) }); post = (record { opened = []; facts = ([]); locals = []; items = ([]) }) }) ∷ (record { is_void = false; name = name_main; params = ([]); vars = []; pre = (record { opened = []; facts = ([]); locals = []; items = ([]) }); post = (record { opened = []; facts = ((Rel relation.Eq (Var 0 sort.Val) (Of unary.Vi (Number (pos 0)))) ∷ []); locals = []; items = ([]) }) }) ∷ []) }) (record { is_void = true; name = name_f; params = ([]); vars = []; pre = (record { opened = []; facts = ([]); locals = []; items = ([]) }); post = (record { opened = []; facts = ([]); locals = []; items = ([]) }) }) (record { temps = (name_s ∷ name_t ∷ name_i ∷ name_x1 ∷ name_d0 ∷ name_p1 ∷ name_q1 ∷ []); body = (c.Then (c.Set 0 (c.Const 2)) (c.Then (c.Set 1 (c.Const 3)) (c.Then (c.Set 2 (c.Const 0)) (c.Then (c.Loop (c.Then (c.If (c.Nonzero kind.Signed (c.Binary two.Lt kind.Signed (c.Temp 2) (c.Const 4))) (c.Then c.Skip (c.Then (c.Set 2 (c.Binary two.Add kind.Signed (c.Temp 2) (c.Const 1))) c.End)) (c.Then c.Break c.End)) c.End)) (c.Then (c.Set 0 (c.Binary two.Lt kind.Signed (c.Temp 1) (c.Const 2))) (c.Then (c.Set 1 (c.Binary two.Div kind.Signed (c.Const 5) (c.Const 1))) c.End)))))) }) (s.Then 1 (s.Set ([]) ([])) s.NoBlock (s.Then 2 (s.Set ([]) ([])) s.NoBlock (s.Then 3 (s.Set ([]) ([])) s.NoBlock (s.Then 4 (s.While (record { opened = (sort.Int ∷ []); facts = ((Rel relation.Le (Number (pos 0)) (Var 0 sort.Int)) ∷ (Rel relation.Le (Var 0 sort.Int) (Number (pos 4))) ∷ []); locals = ((name_s, (Of unary.Vi (Number (pos 2)))) ∷ (name_t, (Of unary.Vi (Number (pos 3)))) ∷ (name_i, (Of unary.Vi (Var 0 sort.Int))) ∷ []); items = ([]) }) (record { opened = (sort.Int ∷ []); facts = ((Rel relation.Le (Number (pos 0)) (Var 0 sort.Int)) ∷ (Rel relation.Le (Var 0 sort.Int) (Number (pos 4))) ∷ (Rel relation.Le (Number (pos 4)) (Var 0 sort.Int)) ∷ []); locals = ((name_s, (Of unary.Vi (Number (pos 2)))) ∷ (name_t, (Of unary.Vi (Number (pos 3)))) ∷ (name_i, (Of unary.Vi (Var 0 sort.Int))) ∷ []); items = ([]) }) (name_k2 ∷ []) ([]) (name_k1 ∷ [])) (s.WithBlock (s.Then 5 (s.Meet ((Number (pos 0)) ∷ []) ([])) s.NoBlock s.End) (s.WithBlock (s.Then 6 (s.If ([]) ((record { lines = ((line.Comb (((pos 1), 0) ∷ ((pos 1), 2) ∷ [])) ∷ []) }) ∷ (record { lines = ((line.Comb (((pos 1), 1) ∷ ((pos 1), 2) ∷ [])) ∷ []) }) ∷ []) ([]) ([])) (s.WithBlock (s.Then 7 s.Skip s.NoBlock (s.Then 8 (s.Set ([]) ([])) s.NoBlock (s.Then 9 (s.Fall ((Of2 binary.Add (Named name_k1) (Number (pos 1))) ∷ []) ((record { lines = ((line.Comb (((pos 1), 0) ∷ ((pos 1), 3) ∷ [])) ∷ []) }) ∷ [])) s.NoBlock s.End))) (s.WithBlock (s.Then 10 (s.Break ((Named name_k1) ∷ []) ([])) s.NoBlock s.End) s.NoBlock)) s.End) s.NoBlock)) (s.Then 11 (s.Set ([]) ([])) s.NoBlock (s.Then 12 (s.Set ([]) ((record { lines = ((line.Comb (((pos 1), 0) ∷ ((pos 1), 3) ∷ [])) ∷ []) }) ∷ (record { lines = ((line.Comb (((pos 1), 1) ∷ ((pos 1), 3) ∷ [])) ∷ []) }) ∷ (record { lines = ((line.Comb (((pos 1), 0) ∷ ((pos 1), 3) ∷ [])) ∷ []) }) ∷ (record { lines = ((line.Comb (((pos 1), 1) ∷ ((pos 1), 3) ∷ [])) ∷ []) }) ∷ [])) s.NoBlock (s.Then 13 (s.Fall ([]) ([])) s.NoBlock s.End))))))) ≡ (RefusedAt 8 2 3)
unfolding computing
random_409 = refl

random_410 : body_verdict (record { predicates = ([]); specs = ((record { is_void = true; name = name_f; params = ([]); vars = []; pre = (record { opened = []; facts = ([]); locals = []; items = ([]) }); post = (record { opened = []; facts = ([]); locals = []; items = ([]) }) }) ∷ (record { is_void = false; name = name_main; params = ([]); vars = []; pre = (record { opened = []; facts = ([]); locals = []; items = ([]) }); post = (record { opened = []; facts = ((Rel relation.Eq (Var 0 sort.Val) (Of unary.Vi (Number (pos 0)))) ∷ []); locals = []; items = ([]) }) }) ∷ []) }) (record { is_void = true; name = name_f; params = ([]); vars = []; pre = (record { opened = []; facts = ([]); locals = []; items = ([]) }); post = (record { opened = []; facts = ([]); locals = []; items = ([]) }) }) (record { temps = (name_s ∷ name_t ∷ name_i ∷ name_x1 ∷ name_d0 ∷ name_p1 ∷ name_q1 ∷ []); body = (c.Then (c.Set 0 (c.Const 2)) (c.Then (c.Set 1 (c.Const 3)) (c.Then (c.Set 2 (c.Const 0)) (c.Then (c.Loop (c.Then (c.If (c.Nonzero kind.Signed (c.Binary two.Lt kind.Signed (c.Temp 2) (c.Const 4))) (c.Then c.Skip (c.Then (c.Set 2 (c.Binary two.Add kind.Signed (c.Temp 2) (c.Const 1))) c.End)) (c.Then c.Break c.End)) c.End)) (c.Then (c.Set 0 (c.Binary two.Lt kind.Signed (c.Temp 1) (c.Const 2))) (c.Then (c.Set 1 (c.Binary two.Div kind.Signed (c.Const 5) (c.Const 1))) c.End)))))) }) (s.Then 1 (s.Set ([]) ([])) s.NoBlock (s.Then 2 (s.Set ([]) ([])) s.NoBlock (s.Then 3 (s.Set ([]) ([])) s.NoBlock (s.Then 4 (s.While (record { opened = (sort.Int ∷ []); facts = ((Rel relation.Le (Number (pos 0)) (Var 0 sort.Int)) ∷ (Rel relation.Le (Var 0 sort.Int) (Number (pos 4))) ∷ []); locals = ((name_s, (Of unary.Vi (Number (pos 2)))) ∷ (name_t, (Of unary.Vi (Number (pos 3)))) ∷ (name_i, (Of unary.Vi (Var 0 sort.Int))) ∷ []); items = ([]) }) (record { opened = (sort.Int ∷ []); facts = ((Rel relation.Le (Number (pos 0)) (Var 0 sort.Int)) ∷ (Rel relation.Le (Var 0 sort.Int) (Number (pos 4))) ∷ (Rel relation.Le (Number (pos 4)) (Var 0 sort.Int)) ∷ []); locals = ((name_s, (Of unary.Vi (Number (pos 2)))) ∷ (name_t, (Of unary.Vi (Number (pos 3)))) ∷ (name_i, (Of unary.Vi (Var 0 sort.Int))) ∷ []); items = ([]) }) (name_k2 ∷ []) ([]) (name_k1 ∷ [])) (s.WithBlock (s.Then 5 (s.Meet ((Number (pos 0)) ∷ []) ([])) s.NoBlock s.End) (s.WithBlock (s.Then 6 (s.If ([]) ((record { lines = ((line.Comb (((pos 1), 0) ∷ ((pos 1), 2) ∷ [])) ∷ []) }) ∷ (record { lines = ((line.Comb (((pos 1), 1) ∷ ((pos 1), 2) ∷ [])) ∷ []) }) ∷ []) ([]) ([])) (s.WithBlock (s.Then 7 (s.Fall ((Of2 binary.Add (Named name_k1) (Number (pos 1))) ∷ []) ((record { lines = ((line.Comb (((pos 1), 0) ∷ ((pos 1), 3) ∷ [])) ∷ []) }) ∷ [])) s.NoBlock (s.Then 8 (s.Set ([]) ((record { lines = ((line.Comb (((pos 1), 0) ∷ ((pos 1), 3) ∷ [])) ∷ []) }) ∷ (record { lines = ((line.Comb (((pos 1), 1) ∷ ((pos 1), 3) ∷ [])) ∷ []) }) ∷ (record { lines = ((line.Comb (((pos 1), 0) ∷ ((pos 1), 3) ∷ [])) ∷ []) }) ∷ (record { lines = ((line.Comb (((pos 1), 1) ∷ ((pos 1), 3) ∷ [])) ∷ []) }) ∷ [])) s.NoBlock (s.Then 9 s.Skip s.NoBlock s.End))) (s.WithBlock (s.Then 10 (s.Break ((Named name_k1) ∷ []) ([])) s.NoBlock s.End) s.NoBlock)) s.End) s.NoBlock)) (s.Then 11 (s.Set ([]) ([])) s.NoBlock (s.Then 12 (s.Set ([]) ([])) s.NoBlock (s.Then 13 (s.Fall ([]) ([])) s.NoBlock s.End))))))) ≡ (RefusedAt 7 10 1)
unfolding computing
random_410 = refl

random_411 : body_verdict (record { predicates = ([]); specs = ((record { is_void = false; name = name_main; params = ([]); vars = []; pre = (record { opened = []; facts = ([]); locals = []; items = ((Data (Number (pos 64)) (Global name_arr) (Of2 binary.Cons (Of unary.Vi (Number (pos 1))) (Of2 binary.Cons (Of unary.Vi (Number (pos 2))) (Of2 binary.Cons (Of unary.Vi (Number (pos 0))) (Of2 binary.Cons (Of unary.Vi (Number (pos 0))) Nil))))) ∷ []) }); post = (record { opened = (sort.List ∷ []); facts = ([]); locals = []; items = ((Data (Number (pos 64)) (Global name_arr) (Var 1 sort.List)) ∷ []) }) }) ∷ []) }) (record { is_void = false; name = name_main; params = ([]); vars = []; pre = (record { opened = []; facts = ([]); locals = []; items = ((Data (Number (pos 64)) (Global name_arr) (Of2 binary.Cons (Of unary.Vi (Number (pos 1))) (Of2 binary.Cons (Of unary.Vi (Number (pos 2))) (Of2 binary.Cons (Of unary.Vi (Number (pos 0))) (Of2 binary.Cons (Of unary.Vi (Number (pos 0))) Nil))))) ∷ []) }); post = (record { opened = (sort.List ∷ []); facts = ([]); locals = []; items = ((Data (Number (pos 64)) (Global name_arr) (Var 1 sort.List)) ∷ []) }) }) (record { temps = (name_s ∷ name_t ∷ name_i ∷ name_x1 ∷ name_d0 ∷ name_p1 ∷ name_q1 ∷ []); body = (c.Then (c.Set 1 (c.Const 1)) (c.Then (c.Set 1 (c.Binary two.Add kind.Signed (c.Const 1) (c.Const 1))) (c.Then (c.Set 0 (c.Binary two.Sub kind.Signed (c.Temp 1) (c.Const 2))) (c.Then (c.Set 3 (c.Binary two.Add kind.Unsigned (c.Const 4294967295) (c.Const 1))) (c.Then (c.Set 2 (c.Const 0)) (c.Then (c.Loop (c.Then (c.If (c.Nonzero kind.Signed (c.Binary two.Lt kind.Signed (c.Temp 2) (c.Const 1))) (c.Then (c.Set 4 (c.Binary two.Add kind.Signed (c.Temp 2) (c.Const 1))) (c.Then (c.Set 2 (c.Binary two.Add kind.Signed (c.Temp 2) (c.Const 1))) (c.Then c.Skip c.End))) (c.Then c.Break c.End)) c.End)) (c.Then (c.Return (Some (c.Temp 1))) c.End))))))) }) (s.Then 1 (s.Set ([]) ([])) s.NoBlock (s.Then 2 (s.Set ([]) ([])) s.NoBlock (s.Then 3 (s.Set ([]) ([])) s.NoBlock (s.Then 4 (s.Set ([]) ([])) s.NoBlock (s.Then 5 (s.Set ([]) ([])) s.NoBlock (s.Then 6 (s.Share 0 (Number (pos 1)) ([])) s.NoBlock (s.Then 7 (s.Unshare 0 1 ([])) s.NoBlock (s.Then 8 (s.While (record { opened = (sort.Int ∷ []); facts = ((Rel relation.Le (Number (pos 0)) (Var 0 sort.Int)) ∷ (Rel relation.Le (Var 0 sort.Int) (Number (pos 1))) ∷ []); locals = ((name_s, (Of unary.Vi (Number (pos 0)))) ∷ (name_t, (Of unary.Vi (Number (pos 2)))) ∷ (name_i, (Of unary.Vi (Var 0 sort.Int))) ∷ (name_x1, (Of unary.Vi (Number (pos 0)))) ∷ []); items = ((Data (Number (pos 64)) (Global name_arr) (Of2 binary.Cons (Of unary.Vi (Number (pos 1))) (Of2 binary.Cons (Of unary.Vi (Number (pos 2))) (Of2 binary.Cons (Of unary.Vi (Number (pos 0))) (Of2 binary.Cons (Of unary.Vi (Number (pos 0))) Nil))))) ∷ []) }) (record { opened = (sort.Int ∷ []); facts = ((Rel relation.Le (Number (pos 0)) (Var 0 sort.Int)) ∷ (Rel relation.Le (Var 0 sort.Int) (Number (pos 1))) ∷ (Rel relation.Le (Number (pos 1)) (Var 0 sort.Int)) ∷ []); locals = ((name_s, (Of unary.Vi (Number (pos 0)))) ∷ (name_t, (Of unary.Vi (Number (pos 2)))) ∷ (name_i, (Of unary.Vi (Var 0 sort.Int))) ∷ (name_x1, (Of unary.Vi (Number (pos 0)))) ∷ []); items = ((Data (Number (pos 64)) (Global name_arr) (Of2 binary.Cons (Of unary.Vi (Number (pos 1))) (Of2 binary.Cons (Of unary.Vi (Number (pos 2))) (Of2 binary.Cons (Of unary.Vi (Number (pos 0))) (Of2 binary.Cons (Of unary.Vi (Number (pos 0))) Nil))))) ∷ []) }) (name_k2 ∷ []) ([]) (name_k1 ∷ [])) (s.WithBlock (s.Then 9 (s.Meet ((Number (pos 0)) ∷ []) ([])) s.NoBlock s.End) (s.WithBlock (s.Then 10 (s.Have (Rel relation.Le (Of2 binary.Add (Named name_k1) (Number (pos 0))) (Of2 binary.Add (Number (pos 1)) (Named name_k1))) ((record { lines = ((line.Comb (((pos 1), 2) ∷ [])) ∷ []) }) ∷ [])) s.NoBlock (s.Then 11 (s.If ([]) ((record { lines = ((line.Comb (((pos 1), 0) ∷ ((pos 1), 3) ∷ [])) ∷ []) }) ∷ (record { lines = ((line.Comb (((pos 1), 1) ∷ ((pos 1), 3) ∷ [])) ∷ []) }) ∷ []) ([]) ([])) (s.WithBlock (s.Then 12 (s.Set ([]) ((record { lines = ((line.Comb (((pos 1), 0) ∷ ((pos 1), 4) ∷ [])) ∷ []) }) ∷ (record { lines = ((line.Comb (((pos 1), 1) ∷ ((pos 1), 4) ∷ [])) ∷ []) }) ∷ (record { lines = ((line.Comb (((pos 1), 0) ∷ ((pos 1), 4) ∷ [])) ∷ []) }) ∷ (record { lines = ((line.Comb (((pos 1), 1) ∷ ((pos 1), 4) ∷ [])) ∷ []) }) ∷ [])) s.NoBlock (s.Then 13 (s.Have (Rel relation.Le (Number (pos 0)) (Number (pos 7))) ([])) s.NoBlock (s.Then 14 (s.Have (Rel relation.Le (Named name_k1) (Of2 binary.Add (Named name_k1) (Number (pos 1)))) ([])) s.NoBlock (s.Then 15 (s.Have (Rel relation.Le (Number (pos 0)) (Number (pos 7))) ([])) s.NoBlock (s.Then 16 s.Skip s.NoBlock (s.Then 17 (s.Fall ((Of2 binary.Add (Named name_k1) (Number (pos 1))) ∷ []) ((record { lines = ((line.Comb (((pos 1), 0) ∷ ((pos 1), 7) ∷ [])) ∷ []) }) ∷ [])) s.NoBlock s.End)))))) (s.WithBlock (s.Then 18 (s.Break ((Named name_k1) ∷ []) ([])) s.NoBlock s.End) s.NoBlock)) s.End)) s.NoBlock)) (s.Then 19 (s.Share 0 (Number (pos 63)) ([])) s.NoBlock (s.Then 20 (s.Unshare 1 0 ([])) s.NoBlock (s.Then 21 (s.Return ((Of2 binary.Cons (Of unary.Vi (Number (pos 1))) (Of2 binary.Cons (Of unary.Vi (Number (pos 2))) (Of2 binary.Cons (Of unary.Vi (Number (pos 0))) (Of2 binary.Cons (Of unary.Vi (Number (pos 0))) Nil)))) ∷ []) ([]) ([])) s.NoBlock s.End))))))))))) ≡ (RefusedAt 16 1 1)
unfolding computing
random_411 = refl

random_412 : body_verdict (record { predicates = ([]); specs = ((record { is_void = false; name = name_main; params = ([]); vars = []; pre = (record { opened = []; facts = ([]); locals = []; items = ((Data (Number (pos 64)) (Global name_arr) (Of2 binary.Cons (Of unary.Vi (Number (pos 4))) (Of2 binary.Cons (Of unary.Vi (Number (pos 2))) (Of2 binary.Cons (Of unary.Vi (Number (pos 0))) (Of2 binary.Cons (Of unary.Vi (Number (pos 0))) Nil))))) ∷ []) }); post = (record { opened = (sort.List ∷ []); facts = ([]); locals = []; items = ((Data (Number (pos 64)) (Global name_arr) (Var 1 sort.List)) ∷ []) }) }) ∷ []) }) (record { is_void = false; name = name_main; params = ([]); vars = []; pre = (record { opened = []; facts = ([]); locals = []; items = ((Data (Number (pos 64)) (Global name_arr) (Of2 binary.Cons (Of unary.Vi (Number (pos 4))) (Of2 binary.Cons (Of unary.Vi (Number (pos 2))) (Of2 binary.Cons (Of unary.Vi (Number (pos 0))) (Of2 binary.Cons (Of unary.Vi (Number (pos 0))) Nil))))) ∷ []) }); post = (record { opened = (sort.List ∷ []); facts = ([]); locals = []; items = ((Data (Number (pos 64)) (Global name_arr) (Var 1 sort.List)) ∷ []) }) }) (record { temps = (name_s ∷ name_t ∷ name_i ∷ name_x1 ∷ name_d0 ∷ name_p1 ∷ name_q1 ∷ []); body = (c.Then (c.Set 1 (c.Const 1)) (c.Then (c.Set 1 (c.Binary two.Add kind.Signed (c.Const 1) (c.Const 1))) (c.Then (c.Set 0 (c.Binary two.Sub kind.Signed (c.Temp 1) (c.Const 2))) (c.Then (c.Set 3 (c.Binary two.Add kind.Unsigned (c.Const 4294967295) (c.Const 1))) (c.Then (c.Set 2 (c.Const 0)) (c.Then (c.Loop (c.Then (c.If (c.Nonzero kind.Signed (c.Binary two.Lt kind.Signed (c.Temp 2) (c.Const 1))) (c.Then (c.Set 4 (c.Binary two.Add kind.Signed (c.Temp 2) (c.Const 1))) (c.Then (c.Set 2 (c.Binary two.Add kind.Signed (c.Temp 2) (c.Const 1))) (c.Then c.Skip c.End))) (c.Then c.Break c.End)) c.End)) (c.Then (c.Return (Some (c.Temp 1))) c.End))))))) }) (s.Then 1 (s.Set ([]) ([])) s.NoBlock (s.Then 2 (s.Set ([]) ([])) s.NoBlock (s.Then 3 (s.Set ([]) ([])) s.NoBlock (s.Then 4 (s.Set ([]) ([])) s.NoBlock (s.Then 5 (s.Set ([]) ([])) s.NoBlock (s.Then 6 (s.Share 0 (Number (pos 1)) ([])) s.NoBlock (s.Then 7 (s.Unshare 0 1 ([])) s.NoBlock (s.Then 8 (s.While (record { opened = (sort.Int ∷ []); facts = ((Rel relation.Le (Number (pos 0)) (Var 0 sort.Int)) ∷ (Rel relation.Le (Var 0 sort.Int) (Number (pos 1))) ∷ []); locals = ((name_s, (Of unary.Vi (Number (pos 0)))) ∷ (name_t, (Of unary.Vi (Number (pos 2)))) ∷ (name_i, (Of unary.Vi (Var 0 sort.Int))) ∷ (name_x1, (Of unary.Vi (Number (pos 0)))) ∷ []); items = ((Data (Number (pos 64)) (Global name_arr) (Of2 binary.Cons (Of unary.Vi (Number (pos 1))) (Of2 binary.Cons (Of unary.Vi (Number (pos 2))) (Of2 binary.Cons (Of unary.Vi (Number (pos 0))) (Of2 binary.Cons (Of unary.Vi (Number (pos 0))) Nil))))) ∷ []) }) (record { opened = (sort.Int ∷ []); facts = ((Rel relation.Le (Number (pos 0)) (Var 0 sort.Int)) ∷ (Rel relation.Le (Var 0 sort.Int) (Number (pos 1))) ∷ (Rel relation.Le (Number (pos 1)) (Var 0 sort.Int)) ∷ []); locals = ((name_s, (Of unary.Vi (Number (pos 0)))) ∷ (name_t, (Of unary.Vi (Number (pos 2)))) ∷ (name_i, (Of unary.Vi (Var 0 sort.Int))) ∷ (name_x1, (Of unary.Vi (Number (pos 0)))) ∷ []); items = ((Data (Number (pos 64)) (Global name_arr) (Of2 binary.Cons (Of unary.Vi (Number (pos 1))) (Of2 binary.Cons (Of unary.Vi (Number (pos 2))) (Of2 binary.Cons (Of unary.Vi (Number (pos 0))) (Of2 binary.Cons (Of unary.Vi (Number (pos 0))) Nil))))) ∷ []) }) (name_k2 ∷ []) ([]) (name_k1 ∷ [])) (s.WithBlock (s.Then 9 (s.Meet ((Number (pos 0)) ∷ []) ([])) s.NoBlock s.End) (s.WithBlock (s.Then 10 (s.Have (Rel relation.Le (Of2 binary.Add (Named name_k1) (Number (pos 0))) (Of2 binary.Add (Number (pos 1)) (Named name_k1))) ((record { lines = ((line.Comb (((pos 1), 2) ∷ [])) ∷ []) }) ∷ [])) s.NoBlock (s.Then 11 (s.If ([]) ((record { lines = ((line.Comb (((pos 1), 0) ∷ ((pos 1), 3) ∷ [])) ∷ []) }) ∷ (record { lines = ((line.Comb (((pos 1), 1) ∷ ((pos 1), 3) ∷ [])) ∷ []) }) ∷ []) ([]) ([])) (s.WithBlock (s.Then 12 (s.Set ([]) ((record { lines = ((line.Comb (((pos 1), 0) ∷ ((pos 1), 4) ∷ [])) ∷ []) }) ∷ (record { lines = ((line.Comb (((pos 1), 1) ∷ ((pos 1), 4) ∷ [])) ∷ []) }) ∷ (record { lines = ((line.Comb (((pos 1), 0) ∷ ((pos 1), 4) ∷ [])) ∷ []) }) ∷ (record { lines = ((line.Comb (((pos 1), 1) ∷ ((pos 1), 4) ∷ [])) ∷ []) }) ∷ [])) s.NoBlock (s.Then 13 (s.Set ([]) ((record { lines = ((line.Comb (((pos 1), 0) ∷ ((pos 1), 4) ∷ [])) ∷ []) }) ∷ (record { lines = ((line.Comb (((pos 1), 1) ∷ ((pos 1), 4) ∷ [])) ∷ []) }) ∷ (record { lines = ((line.Comb (((pos 1), 0) ∷ ((pos 1), 4) ∷ [])) ∷ []) }) ∷ (record { lines = ((line.Comb (((pos 1), 1) ∷ ((pos 1), 4) ∷ [])) ∷ []) }) ∷ [])) s.NoBlock (s.Then 14 (s.Have (Rel relation.Le (Number (pos 0)) (Number (pos 7))) ([])) s.NoBlock (s.Then 15 (s.Have (Rel relation.Le (Named name_k1) (Of2 binary.Add (Named name_k1) (Number (pos 1)))) ([])) s.NoBlock (s.Then 16 (s.Have (Rel relation.Le (Number (pos 0)) (Number (pos 7))) ([])) s.NoBlock (s.Then 17 s.Skip s.NoBlock (s.Then 18 (s.Fall ((Of2 binary.Add (Named name_k1) (Number (pos 1))) ∷ []) ((record { lines = ((line.Comb (((pos 1), 0) ∷ ((pos 1), 7) ∷ [])) ∷ []) }) ∷ [])) s.NoBlock s.End))))))) (s.WithBlock (s.Then 19 (s.Break ((Named name_k1) ∷ []) ([])) s.NoBlock s.End) s.NoBlock)) s.End)) s.NoBlock)) (s.Then 20 (s.Share 0 (Number (pos 63)) ([])) s.NoBlock (s.Then 21 (s.Unshare 1 0 ([])) s.NoBlock (s.Then 22 (s.Return ((Of2 binary.Cons (Of unary.Vi (Number (pos 1))) (Of2 binary.Cons (Of unary.Vi (Number (pos 2))) (Of2 binary.Cons (Of unary.Vi (Number (pos 0))) (Of2 binary.Cons (Of unary.Vi (Number (pos 0))) Nil)))) ∷ []) ([]) ([])) s.NoBlock s.End))))))))))) ≡ (RefusedAt 9 37 5)
unfolding computing
random_412 = refl

random_413 : body_verdict (record { predicates = ([]); specs = ((record { is_void = false; name = name_main; params = ([]); vars = []; pre = (record { opened = []; facts = ([]); locals = []; items = ((Data (Number (pos 64)) (Global name_arr) (Of2 binary.Cons (Of unary.Vi (Number (pos 1))) (Of2 binary.Cons (Of unary.Vi (Number (pos 2))) (Of2 binary.Cons (Of unary.Vi (Number (pos 0))) (Of2 binary.Cons (Of unary.Vi (Number (pos 0))) Nil))))) ∷ []) }); post = (record { opened = (sort.List ∷ []); facts = ([]); locals = []; items = ((Data (Number (pos 64)) (Global name_arr) (Var 1 sort.List)) ∷ []) }) }) ∷ []) }) (record { is_void = false; name = name_main; params = ([]); vars = []; pre = (record { opened = []; facts = ([]); locals = []; items = ((Data (Number (pos 64)) (Global name_arr) (Of2 binary.Cons (Of unary.Vi (Number (pos 1))) (Of2 binary.Cons (Of unary.Vi (Number (pos 2))) (Of2 binary.Cons (Of unary.Vi (Number (pos 0))) (Of2 binary.Cons (Of unary.Vi (Number (pos 0))) Nil))))) ∷ []) }); post = (record { opened = (sort.List ∷ []); facts = ([]); locals = []; items = ((Data (Number (pos 64)) (Global name_arr) (Var 1 sort.List)) ∷ []) }) }) (record { temps = (name_s ∷ name_t ∷ name_i ∷ name_x1 ∷ name_d0 ∷ name_p1 ∷ name_q1 ∷ []); body = (c.Then (c.Set 1 (c.Const 1)) (c.Then (c.Set 1 (c.Binary two.Add kind.Signed (c.Const 1) (c.Const 1))) (c.Then (c.Set 0 (c.Binary two.Sub kind.Signed (c.Temp 1) (c.Const 2))) (c.Then (c.Set 3 (c.Binary two.Add kind.Unsigned (c.Const 4294967295) (c.Const 1))) (c.Then (c.Set 2 (c.Const 0)) (c.Then (c.Loop (c.Then (c.If (c.Nonzero kind.Signed (c.Binary two.Lt kind.Signed (c.Temp 2) (c.Const 1))) (c.Then (c.Set 4 (c.Binary two.Add kind.Signed (c.Temp 2) (c.Const 1))) (c.Then (c.Set 2 (c.Binary two.Add kind.Signed (c.Temp 2) (c.Const 1))) (c.Then c.Skip c.End))) (c.Then c.Break c.End)) c.End)) (c.Then (c.Return (Some (c.Temp 1))) c.End))))))) }) (s.Then 1 (s.Set ([]) ([])) s.NoBlock (s.Then 2 (s.Set ([]) ([])) s.NoBlock (s.Then 3 (s.Set ([]) ([])) s.NoBlock (s.Then 4 (s.Set ([]) ([])) s.NoBlock (s.Then 5 (s.Set ([]) ([])) s.NoBlock (s.Then 6 (s.Share 0 (Number (pos 1)) ([])) s.NoBlock (s.Then 7 (s.Unshare 0 1 ([])) s.NoBlock (s.Then 8 (s.While (record { opened = (sort.Int ∷ []); facts = ((Rel relation.Le (Number (pos 0)) (Var 0 sort.Int)) ∷ (Rel relation.Le (Var 0 sort.Int) (Number (pos 1))) ∷ []); locals = ((name_s, (Of unary.Vi (Number (pos 0)))) ∷ (name_t, (Of unary.Vi (Number (pos 2)))) ∷ (name_i, (Of unary.Vi (Var 0 sort.Int))) ∷ (name_x1, (Of unary.Vi (Number (pos 0)))) ∷ []); items = ((Data (Number (pos 64)) (Global name_arr) (Of2 binary.Cons (Of unary.Vi (Number (pos 1))) (Of2 binary.Cons (Of unary.Vi (Number (pos 2))) (Of2 binary.Cons (Of unary.Vi (Number (pos 0))) (Of2 binary.Cons (Of unary.Vi (Number (pos 0))) Nil))))) ∷ []) }) (record { opened = (sort.Int ∷ []); facts = ((Rel relation.Le (Number (pos 0)) (Var 0 sort.Int)) ∷ (Rel relation.Le (Var 0 sort.Int) (Number (pos 1))) ∷ (Rel relation.Le (Number (pos 1)) (Var 0 sort.Int)) ∷ []); locals = ((name_s, (Of unary.Vi (Number (pos 0)))) ∷ (name_t, (Of unary.Vi (Number (pos 2)))) ∷ (name_i, (Of unary.Vi (Var 0 sort.Int))) ∷ (name_x1, (Of unary.Vi (Number (pos 0)))) ∷ []); items = ((Data (Number (pos 64)) (Global name_arr) (Of2 binary.Cons (Of unary.Vi (Number (pos 1))) (Of2 binary.Cons (Of unary.Vi (Number (pos 2))) (Of2 binary.Cons (Of unary.Vi (Number (pos 1))) (Of2 binary.Cons (Of unary.Vi (Number (pos 0))) Nil))))) ∷ []) }) (name_k2 ∷ []) ([]) (name_k1 ∷ [])) (s.WithBlock (s.Then 9 (s.Meet ((Number (pos 0)) ∷ []) ([])) s.NoBlock s.End) (s.WithBlock (s.Then 10 (s.Have (Rel relation.Le (Of2 binary.Add (Named name_k1) (Number (pos 0))) (Of2 binary.Add (Number (pos 1)) (Named name_k1))) ((record { lines = ((line.Comb (((pos 1), 2) ∷ [])) ∷ []) }) ∷ [])) s.NoBlock (s.Then 11 (s.If ([]) ((record { lines = ((line.Comb (((pos 1), 0) ∷ ((pos 1), 3) ∷ [])) ∷ []) }) ∷ (record { lines = ((line.Comb (((pos 1), 1) ∷ ((pos 1), 3) ∷ [])) ∷ []) }) ∷ []) ([]) ([])) (s.WithBlock (s.Then 12 (s.Set ([]) ((record { lines = ((line.Comb (((pos 1), 0) ∷ ((pos 1), 4) ∷ [])) ∷ []) }) ∷ (record { lines = ((line.Comb (((pos 1), 1) ∷ ((pos 1), 4) ∷ [])) ∷ []) }) ∷ (record { lines = ((line.Comb (((pos 1), 0) ∷ ((pos 1), 4) ∷ [])) ∷ []) }) ∷ (record { lines = ((line.Comb (((pos 1), 1) ∷ ((pos 1), 4) ∷ [])) ∷ []) }) ∷ [])) s.NoBlock (s.Then 13 (s.Set ([]) ((record { lines = ((line.Comb (((pos 1), 0) ∷ ((pos 1), 4) ∷ [])) ∷ []) }) ∷ (record { lines = ((line.Comb (((pos 1), 1) ∷ ((pos 1), 4) ∷ [])) ∷ []) }) ∷ (record { lines = ((line.Comb (((pos 1), 0) ∷ ((pos 1), 4) ∷ [])) ∷ []) }) ∷ (record { lines = ((line.Comb (((pos 1), 1) ∷ ((pos 1), 4) ∷ [])) ∷ []) }) ∷ [])) s.NoBlock (s.Then 14 (s.Have (Rel relation.Le (Number (pos 0)) (Number (pos 7))) ([])) s.NoBlock (s.Then 15 (s.Have (Rel relation.Le (Named name_k1) (Of2 binary.Add (Named name_k1) (Number (pos 1)))) ([])) s.NoBlock (s.Then 16 (s.Have (Rel relation.Le (Number (pos 0)) (Number (pos 7))) ([])) s.NoBlock (s.Then 17 s.Skip s.NoBlock (s.Then 18 (s.Fall ((Of2 binary.Add (Named name_k1) (Number (pos 1))) ∷ []) ((record { lines = ((line.Comb (((pos 1), 0) ∷ ((pos 1), 7) ∷ [])) ∷ []) }) ∷ [])) s.NoBlock s.End))))))) (s.WithBlock (s.Then 19 (s.Break ((Named name_k1) ∷ []) ([])) s.NoBlock s.End) s.NoBlock)) s.End)) s.NoBlock)) (s.Then 20 (s.Share 0 (Number (pos 63)) ([])) s.NoBlock (s.Then 21 (s.Unshare 1 0 ([])) s.NoBlock (s.Then 22 (s.Return ((Of2 binary.Cons (Of unary.Vi (Number (pos 1))) (Of2 binary.Cons (Of unary.Vi (Number (pos 2))) (Of2 binary.Cons (Of unary.Vi (Number (pos 0))) (Of2 binary.Cons (Of unary.Vi (Number (pos 0))) Nil)))) ∷ []) ([]) ([])) s.NoBlock s.End))))))))))) ≡ (RefusedAt 19 7 5)
unfolding computing
random_413 = refl

random_414 : body_verdict (record { predicates = ([]); specs = ((record { is_void = false; name = name_main; params = ([]); vars = []; pre = (record { opened = []; facts = ([]); locals = []; items = ((Data (Number (pos 64)) (Global name_arr) (Of2 binary.Cons (Of unary.Vi (Number (pos 1))) (Of2 binary.Cons (Of unary.Vi (Number (pos 2))) (Of2 binary.Cons (Of unary.Vi (Number (pos 0))) (Of2 binary.Cons (Of unary.Vi (Number (pos 0))) Nil))))) ∷ []) }); post = (record { opened = (sort.List ∷ []); facts = ([]); locals = []; items = ((Data (Number (pos 64)) (Global name_arr) (Var 1 sort.List)) ∷ []) }) }) ∷ []) }) (record { is_void = false; name = name_main; params = ([]); vars = []; pre = (record { opened = []; facts = ([]); locals = []; items = ((Data (Number (pos 64)) (Global name_arr) (Of2 binary.Cons (Of unary.Vi (Number (pos 1))) (Of2 binary.Cons (Of unary.Vi (Number (pos 2))) (Of2 binary.Cons (Of unary.Vi (Number (pos 0))) (Of2 binary.Cons (Of unary.Vi (Number (pos 0))) Nil))))) ∷ []) }); post = (record { opened = (sort.List ∷ []); facts = ([]); locals = []; items = ((Data (Number (pos 64)) (Global name_arr) (Var 1 sort.List)) ∷ []) }) }) (record { temps = (name_s ∷ name_t ∷ name_i ∷ name_x1 ∷ name_d0 ∷ name_p1 ∷ name_q1 ∷ []); body = (c.Then (c.Set 1 (c.Const 1)) (c.Then (c.Set 1 (c.Binary two.Add kind.Signed (c.Const 1) (c.Const 1))) (c.Then (c.Set 0 (c.Binary two.Sub kind.Signed (c.Temp 1) (c.Const 2))) (c.Then (c.Set 3 (c.Binary two.Add kind.Unsigned (c.Const 4294967295) (c.Const 1))) (c.Then (c.Set 2 (c.Const 0)) (c.Then (c.Loop (c.Then (c.If (c.Nonzero kind.Signed (c.Binary two.Lt kind.Signed (c.Temp 2) (c.Const 1))) (c.Then (c.Set 4 (c.Binary two.Add kind.Signed (c.Temp 2) (c.Const 1))) (c.Then (c.Set 2 (c.Binary two.Add kind.Signed (c.Temp 2) (c.Const 1))) (c.Then c.Skip c.End))) (c.Then c.Break c.End)) c.End)) (c.Then (c.Return (Some (c.Temp 1))) c.End))))))) }) (s.Then 1 (s.Set ([]) ([])) s.NoBlock (s.Then 2 (s.Set ([]) ([])) s.NoBlock (s.Then 3 (s.Set ([]) ([])) s.NoBlock (s.Then 4 (s.Set ([]) ([])) s.NoBlock (s.Then 5 (s.Set ([]) ([])) s.NoBlock (s.Then 6 (s.Share 0 (Number (pos 1)) ([])) s.NoBlock (s.Then 7 (s.Unshare 0 1 ([])) s.NoBlock (s.Then 8 (s.While (record { opened = (sort.Int ∷ []); facts = ((Rel relation.Le (Number (pos 0)) (Var 0 sort.Int)) ∷ (Rel relation.Le (Var 0 sort.Int) (Number (pos 1))) ∷ []); locals = ((name_s, (Of unary.Vi (Number (pos 0)))) ∷ (name_t, (Of unary.Vi (Number (pos 2)))) ∷ (name_i, (Of unary.Vi (Var 0 sort.Int))) ∷ (name_x1, (Of unary.Vi (Number (pos 0)))) ∷ []); items = ((Data (Number (pos 64)) (Global name_arr) (Of2 binary.Cons (Of unary.Vi (Number (pos 1))) (Of2 binary.Cons (Of unary.Vi (Number (pos 0))) (Of2 binary.Cons (Of unary.Vi (Number (pos 0))) (Of2 binary.Cons (Of unary.Vi (Number (pos 0))) Nil))))) ∷ []) }) (record { opened = (sort.Int ∷ []); facts = ((Rel relation.Le (Number (pos 0)) (Var 0 sort.Int)) ∷ (Rel relation.Le (Var 0 sort.Int) (Number (pos 1))) ∷ (Rel relation.Le (Number (pos 1)) (Var 0 sort.Int)) ∷ []); locals = ((name_s, (Of unary.Vi (Number (pos 0)))) ∷ (name_t, (Of unary.Vi (Number (pos 2)))) ∷ (name_i, (Of unary.Vi (Var 0 sort.Int))) ∷ (name_x1, (Of unary.Vi (Number (pos 0)))) ∷ []); items = ((Data (Number (pos 64)) (Global name_arr) (Of2 binary.Cons (Of unary.Vi (Number (pos 1))) (Of2 binary.Cons (Of unary.Vi (Number (pos 2))) (Of2 binary.Cons (Of unary.Vi (Number (pos 0))) (Of2 binary.Cons (Of unary.Vi (Number (pos 0))) Nil))))) ∷ []) }) (name_k2 ∷ []) ([]) (name_k1 ∷ [])) (s.WithBlock (s.Then 9 (s.Meet ((Number (pos 0)) ∷ []) ([])) s.NoBlock s.End) (s.WithBlock (s.Then 10 (s.Have (Rel relation.Le (Of2 binary.Add (Named name_k1) (Number (pos 0))) (Of2 binary.Add (Number (pos 1)) (Named name_k1))) ((record { lines = ((line.Comb (((pos 1), 2) ∷ [])) ∷ []) }) ∷ [])) s.NoBlock (s.Then 11 (s.If ([]) ((record { lines = ((line.Comb (((pos 1), 0) ∷ ((pos 1), 3) ∷ [])) ∷ []) }) ∷ (record { lines = ((line.Comb (((pos 1), 1) ∷ ((pos 1), 3) ∷ [])) ∷ []) }) ∷ []) ([]) ([])) (s.WithBlock (s.Then 12 (s.Set ([]) ((record { lines = ((line.Comb (((pos 1), 0) ∷ ((pos 1), 4) ∷ [])) ∷ []) }) ∷ (record { lines = ((line.Comb (((pos 1), 1) ∷ ((pos 1), 4) ∷ [])) ∷ []) }) ∷ (record { lines = ((line.Comb (((pos 1), 0) ∷ ((pos 1), 4) ∷ [])) ∷ []) }) ∷ (record { lines = ((line.Comb (((pos 1), 1) ∷ ((pos 1), 4) ∷ [])) ∷ []) }) ∷ [])) s.NoBlock (s.Then 13 (s.Set ([]) ((record { lines = ((line.Comb (((pos 1), 0) ∷ ((pos 1), 4) ∷ [])) ∷ []) }) ∷ (record { lines = ((line.Comb (((pos 1), 1) ∷ ((pos 1), 4) ∷ [])) ∷ []) }) ∷ (record { lines = ((line.Comb (((pos 1), 0) ∷ ((pos 1), 4) ∷ [])) ∷ []) }) ∷ (record { lines = ((line.Comb (((pos 1), 1) ∷ ((pos 1), 4) ∷ [])) ∷ []) }) ∷ [])) s.NoBlock (s.Then 14 (s.Have (Rel relation.Le (Number (pos 0)) (Number (pos 7))) ([])) s.NoBlock (s.Then 15 (s.Have (Rel relation.Le (Named name_k1) (Of2 binary.Add (Named name_k1) (Number (pos 1)))) ([])) s.NoBlock (s.Then 16 (s.Have (Rel relation.Le (Number (pos 0)) (Number (pos 7))) ([])) s.NoBlock (s.Then 17 s.Skip s.NoBlock (s.Then 18 (s.Fall ((Of2 binary.Add (Named name_k1) (Number (pos 1))) ∷ []) ((record { lines = ((line.Comb (((pos 1), 0) ∷ ((pos 1), 7) ∷ [])) ∷ []) }) ∷ [])) s.NoBlock s.End))))))) (s.WithBlock (s.Then 19 (s.Break ((Named name_k1) ∷ []) ([])) s.NoBlock s.End) s.NoBlock)) s.End)) s.NoBlock)) (s.Then 20 (s.Share 0 (Number (pos 63)) ([])) s.NoBlock (s.Then 21 (s.Unshare 1 0 ([])) s.NoBlock (s.Then 22 (s.Return ((Of2 binary.Cons (Of unary.Vi (Number (pos 1))) (Of2 binary.Cons (Of unary.Vi (Number (pos 2))) (Of2 binary.Cons (Of unary.Vi (Number (pos 0))) (Of2 binary.Cons (Of unary.Vi (Number (pos 0))) Nil)))) ∷ []) ([]) ([])) s.NoBlock s.End))))))))))) ≡ (RefusedAt 9 37 5)
unfolding computing
random_414 = refl

random_415 : body_verdict (record { predicates = ([]); specs = ((record { is_void = false; name = name_main; params = ([]); vars = []; pre = (record { opened = []; facts = ([]); locals = []; items = ((Data (Number (pos 64)) (Global name_arr) (Of2 binary.Cons (Of unary.Vi (Number (pos 1))) (Of2 binary.Cons (Of unary.Vi (Number (pos 2))) (Of2 binary.Cons (Of unary.Vi (Number (pos 0))) (Of2 binary.Cons (Of unary.Vi (Number (pos 0))) Nil))))) ∷ []) }); post = (record { opened = (sort.List ∷ []); facts = ([]); locals = []; items = ((Data (Number (pos 64)) (Global name_arr) (Var 1 sort.List)) ∷ []) }) }) ∷ []) }) (record { is_void = false; name = name_main; params = ([]); vars = []; pre = (record { opened = []; facts = ([]); locals = []; items = ((Data (Number (pos 64)) (Global name_arr) (Of2 binary.Cons (Of unary.Vi (Number (pos 1))) (Of2 binary.Cons (Of unary.Vi (Number (pos 2))) (Of2 binary.Cons (Of unary.Vi (Number (pos 0))) (Of2 binary.Cons (Of unary.Vi (Number (pos 0))) Nil))))) ∷ []) }); post = (record { opened = (sort.List ∷ []); facts = ([]); locals = []; items = ((Data (Number (pos 64)) (Global name_arr) (Var 1 sort.List)) ∷ []) }) }) (record { temps = (name_s ∷ name_t ∷ name_i ∷ name_x1 ∷ name_d0 ∷ name_p1 ∷ name_q1 ∷ []); body = (c.Then (c.Set 1 (c.Const 1)) (c.Then (c.Set 1 (c.Binary two.Add kind.Signed (c.Const 1) (c.Const 1))) (c.Then (c.Set 0 (c.Binary two.Sub kind.Signed (c.Temp 1) (c.Const 2))) (c.Then (c.Set 3 (c.Binary two.Add kind.Unsigned (c.Const 4294967295) (c.Const 1))) (c.Then (c.Set 2 (c.Const 0)) (c.Then (c.Loop (c.Then (c.If (c.Nonzero kind.Signed (c.Binary two.Lt kind.Signed (c.Temp 2) (c.Const 1))) (c.Then (c.Set 4 (c.Binary two.Add kind.Signed (c.Temp 2) (c.Const 1))) (c.Then (c.Set 2 (c.Binary two.Add kind.Signed (c.Temp 2) (c.Const 1))) (c.Then c.Skip c.End))) (c.Then c.Break c.End)) c.End)) (c.Then (c.Return (Some (c.Temp 1))) c.End))))))) }) (s.Then 1 (s.Set ([]) ([])) s.NoBlock (s.Then 2 (s.Set ([]) ([])) s.NoBlock (s.Then 3 (s.Set ([]) ([])) s.NoBlock (s.Then 4 (s.If ([]) ((record { lines = ((line.Comb (((pos 1), 0) ∷ ((pos 1), 3) ∷ [])) ∷ []) }) ∷ (record { lines = ((line.Comb (((pos 1), 1) ∷ ((pos 1), 3) ∷ [])) ∷ []) }) ∷ []) ([]) ([])) (s.WithBlock (s.Then 5 (s.Set ([]) ((record { lines = ((line.Comb (((pos 1), 0) ∷ ((pos 1), 4) ∷ [])) ∷ []) }) ∷ (record { lines = ((line.Comb (((pos 1), 1) ∷ ((pos 1), 4) ∷ [])) ∷ []) }) ∷ (record { lines = ((line.Comb (((pos 1), 0) ∷ ((pos 1), 4) ∷ [])) ∷ []) }) ∷ (record { lines = ((line.Comb (((pos 1), 1) ∷ ((pos 1), 4) ∷ [])) ∷ []) }) ∷ [])) s.NoBlock (s.Then 6 (s.Set ([]) ((record { lines = ((line.Comb (((pos 1), 0) ∷ ((pos 1), 4) ∷ [])) ∷ []) }) ∷ (record { lines = ((line.Comb (((pos 1), 1) ∷ ((pos 1), 4) ∷ [])) ∷ []) }) ∷ (record { lines = ((line.Comb (((pos 1), 0) ∷ ((pos 1), 4) ∷ [])) ∷ []) }) ∷ (record { lines = ((line.Comb (((pos 1), 1) ∷ ((pos 1), 4) ∷ [])) ∷ []) }) ∷ [])) s.NoBlock (s.Then 7 (s.Have (Rel relation.Le (Number (pos 0)) (Number (pos 7))) ([])) s.NoBlock (s.Then 8 (s.Have (Rel relation.Le (Named name_k1) (Of2 binary.Add (Named name_k1) (Number (pos 1)))) ([])) s.NoBlock (s.Then 9 (s.Have (Rel relation.Le (Number (pos 0)) (Number (pos 7))) ([])) s.NoBlock (s.Then 10 s.Skip s.NoBlock (s.Then 11 (s.Fall ((Of2 binary.Add (Named name_k1) (Number (pos 1))) ∷ []) ((record { lines = ((line.Comb (((pos 1), 0) ∷ ((pos 1), 7) ∷ [])) ∷ []) }) ∷ [])) s.NoBlock s.End))))))) (s.WithBlock (s.Then 12 (s.Break ((Named name_k1) ∷ []) ([])) s.NoBlock s.End) s.NoBlock)) (s.Then 13 (s.Set ([]) ([])) s.NoBlock (s.Then 14 (s.Set ([]) ([])) s.NoBlock (s.Then 15 (s.Share 0 (Number (pos 1)) ([])) s.NoBlock (s.Then 16 (s.Unshare 0 1 ([])) s.NoBlock (s.Then 17 (s.While (record { opened = (sort.Int ∷ []); facts = ((Rel relation.Le (Number (pos 0)) (Var 0 sort.Int)) ∷ (Rel relation.Le (Var 0 sort.Int) (Number (pos 1))) ∷ []); locals = ((name_s, (Of unary.Vi (Number (pos 0)))) ∷ (name_t, (Of unary.Vi (Number (pos 2)))) ∷ (name_i, (Of unary.Vi (Var 0 sort.Int))) ∷ (name_x1, (Of unary.Vi (Number (pos 0)))) ∷ []); items = ((Data (Number (pos 64)) (Global name_arr) (Of2 binary.Cons (Of unary.Vi (Number (pos 1))) (Of2 binary.Cons (Of unary.Vi (Number (pos 2))) (Of2 binary.Cons (Of unary.Vi (Number (pos 0))) (Of2 binary.Cons (Of unary.Vi (Number (pos 0))) Nil))))) ∷ []) }) (record { opened = (sort.Int ∷ []); facts = ((Rel relation.Le (Number (pos 0)) (Var 0 sort.Int)) ∷ (Rel relation.Le (Var 0 sort.Int) (Number (pos 1))) ∷ (Rel relation.Le (Number (pos 1)) (Var 0 sort.Int)) ∷ []); locals = ((name_s, (Of unary.Vi (Number (pos 0)))) ∷ (name_t, (Of unary.Vi (Number (pos 2)))) ∷ (name_i, (Of unary.Vi (Var 0 sort.Int))) ∷ (name_x1, (Of unary.Vi (Number (pos 0)))) ∷ []); items = ((Data (Number (pos 64)) (Global name_arr) (Of2 binary.Cons (Of unary.Vi (Number (pos 1))) (Of2 binary.Cons (Of unary.Vi (Number (pos 2))) (Of2 binary.Cons (Of unary.Vi (Number (pos 0))) (Of2 binary.Cons (Of unary.Vi (Number (pos 0))) Nil))))) ∷ []) }) (name_k2 ∷ []) ([]) (name_k1 ∷ [])) (s.WithBlock (s.Then 18 (s.Meet ((Number (pos 0)) ∷ []) ([])) s.NoBlock s.End) (s.WithBlock (s.Then 19 (s.Have (Rel relation.Le (Of2 binary.Add (Named name_k1) (Number (pos 0))) (Of2 binary.Add (Number (pos 1)) (Named name_k1))) ((record { lines = ((line.Comb (((pos 1), 2) ∷ [])) ∷ []) }) ∷ [])) s.NoBlock (s.Then 20 (s.If ([]) ((record { lines = ((line.Comb (((pos 1), 0) ∷ ((pos 1), 3) ∷ [])) ∷ []) }) ∷ (record { lines = ((line.Comb (((pos 1), 1) ∷ ((pos 1), 3) ∷ [])) ∷ []) }) ∷ []) ([]) ([])) (s.WithBlock (s.Then 21 (s.Set ([]) ((record { lines = ((line.Comb (((pos 1), 0) ∷ ((pos 1), 4) ∷ [])) ∷ []) }) ∷ (record { lines = ((line.Comb (((pos 1), 1) ∷ ((pos 1), 4) ∷ [])) ∷ []) }) ∷ (record { lines = ((line.Comb (((pos 1), 0) ∷ ((pos 1), 4) ∷ [])) ∷ []) }) ∷ (record { lines = ((line.Comb (((pos 1), 1) ∷ ((pos 1), 4) ∷ [])) ∷ []) }) ∷ [])) s.NoBlock (s.Then 22 (s.Set ([]) ((record { lines = ((line.Comb (((pos 1), 0) ∷ ((pos 1), 4) ∷ [])) ∷ []) }) ∷ (record { lines = ((line.Comb (((pos 1), 1) ∷ ((pos 1), 4) ∷ [])) ∷ []) }) ∷ (record { lines = ((line.Comb (((pos 1), 0) ∷ ((pos 1), 4) ∷ [])) ∷ []) }) ∷ (record { lines = ((line.Comb (((pos 1), 1) ∷ ((pos 1), 4) ∷ [])) ∷ []) }) ∷ [])) s.NoBlock (s.Then 23 (s.Have (Rel relation.Le (Number (pos 0)) (Number (pos 7))) ([])) s.NoBlock (s.Then 24 (s.Have (Rel relation.Le (Named name_k1) (Of2 binary.Add (Named name_k1) (Number (pos 1)))) ([])) s.NoBlock (s.Then 25 (s.Have (Rel relation.Le (Number (pos 0)) (Number (pos 7))) ([])) s.NoBlock (s.Then 26 s.Skip s.NoBlock (s.Then 27 (s.Fall ((Of2 binary.Add (Named name_k1) (Number (pos 1))) ∷ []) ((record { lines = ((line.Comb (((pos 1), 0) ∷ ((pos 1), 7) ∷ [])) ∷ []) }) ∷ [])) s.NoBlock s.End))))))) (s.WithBlock (s.Then 28 (s.Break ((Named name_k1) ∷ []) ([])) s.NoBlock s.End) s.NoBlock)) s.End)) s.NoBlock)) (s.Then 29 (s.Share 0 (Number (pos 63)) ([])) s.NoBlock (s.Then 30 (s.Unshare 1 0 ([])) s.NoBlock (s.Then 31 (s.Return ((Of2 binary.Cons (Of unary.Vi (Number (pos 1))) (Of2 binary.Cons (Of unary.Vi (Number (pos 2))) (Of2 binary.Cons (Of unary.Vi (Number (pos 0))) (Of2 binary.Cons (Of unary.Vi (Number (pos 0))) Nil)))) ∷ []) ([]) ([])) s.NoBlock s.End)))))))))))) ≡ (RefusedAt 4 5 1)
unfolding computing
random_415 = refl

random_416 : body_verdict (record { predicates = ([]); specs = ((record { is_void = false; name = name_main; params = ([]); vars = []; pre = (record { opened = []; facts = ([]); locals = []; items = ((Data (Number (pos 64)) (Global name_arr) (Of2 binary.Cons (Of unary.Vi (Number (pos 1))) (Of2 binary.Cons (Of unary.Vi (Number (pos 2))) (Of2 binary.Cons (Of unary.Vi (Number (pos 0))) (Of2 binary.Cons (Of unary.Vi (Number (pos 0))) Nil))))) ∷ []) }); post = (record { opened = (sort.List ∷ []); facts = ([]); locals = []; items = ((Data (Number (pos 64)) (Global name_arr) (Var 1 sort.List)) ∷ []) }) }) ∷ []) }) (record { is_void = false; name = name_main; params = ([]); vars = []; pre = (record { opened = []; facts = ([]); locals = []; items = ((Data (Number (pos 64)) (Global name_arr) (Of2 binary.Cons (Of unary.Vi (Number (pos 1))) (Of2 binary.Cons (Of unary.Vi (Number (pos 2))) (Of2 binary.Cons (Of unary.Vi (Number (pos 0))) (Of2 binary.Cons (Of unary.Vi (Number (pos 0))) Nil))))) ∷ []) }); post = (record { opened = (sort.List ∷ []); facts = ([]); locals = []; items = ((Data (Number (pos 64)) (Global name_arr) (Var 1 sort.List)) ∷ []) }) }) (record { temps = (name_s ∷ name_t ∷ name_i ∷ name_x1 ∷ name_d0 ∷ name_p1 ∷ name_q1 ∷ []); body = (c.Then (c.Set 1 (c.Const 1)) (c.Then (c.Set 1 (c.Binary two.Add kind.Signed (c.Const 1) (c.Const 1))) (c.Then (c.Set 0 (c.Binary two.Sub kind.Signed (c.Temp 1) (c.Const 2))) (c.Then (c.Set 3 (c.Binary two.Add kind.Unsigned (c.Const 4294967295) (c.Const 1))) (c.Then (c.Set 2 (c.Const 0)) (c.Then (c.Loop (c.Then (c.If (c.Nonzero kind.Signed (c.Binary two.Lt kind.Signed (c.Temp 2) (c.Const 1))) (c.Then (c.Set 4 (c.Binary two.Add kind.Signed (c.Temp 2) (c.Const 1))) (c.Then (c.Set 2 (c.Binary two.Add kind.Signed (c.Temp 2) (c.Const 1))) (c.Then c.Skip c.End))) (c.Then c.Break c.End)) c.End)) (c.Then (c.Return (Some (c.Temp 1))) c.End))))))) }) (s.Then 1 (s.Set ([]) ([])) s.NoBlock (s.Then 2 (s.Set ([]) ([])) s.NoBlock (s.Then 3 (s.Set ([]) ([])) s.NoBlock (s.Then 4 (s.Set ([]) ([])) s.NoBlock (s.Then 5 (s.Set ([]) ([])) s.NoBlock (s.Then 6 (s.Share 0 (Number (pos 1)) ([])) s.NoBlock (s.Then 7 (s.Unshare 0 1 ([])) s.NoBlock (s.Then 8 (s.While (record { opened = (sort.Int ∷ []); facts = ((Rel relation.Le (Number (pos 0)) (Var 0 sort.Int)) ∷ (Rel relation.Le (Var 0 sort.Int) (Number (pos 1))) ∷ []); locals = ((name_s, (Of unary.Vi (Number (pos 0)))) ∷ (name_t, (Of unary.Vi (Number (pos 2)))) ∷ (name_i, (Of unary.Vi (Var 0 sort.Int))) ∷ (name_x1, (Of unary.Vi (Number (pos 0)))) ∷ []); items = ((Data (Number (pos 64)) (Global name_arr) (Of2 binary.Cons (Of unary.Vi (Number (pos 1))) (Of2 binary.Cons (Of unary.Vi (Number (pos 2))) (Of2 binary.Cons (Of unary.Vi (Number (pos 0))) (Of2 binary.Cons (Of unary.Vi (Number (pos 0))) Nil))))) ∷ []) }) (record { opened = (sort.Int ∷ []); facts = ((Rel relation.Le (Number (pos 0)) (Var 0 sort.Int)) ∷ (Rel relation.Le (Var 0 sort.Int) (Number (pos 1))) ∷ (Rel relation.Le (Number (pos 1)) (Var 0 sort.Int)) ∷ []); locals = ((name_s, (Of unary.Vi (Number (pos 0)))) ∷ (name_t, (Of unary.Vi (Number (pos 2)))) ∷ (name_i, (Of unary.Vi (Var 0 sort.Int))) ∷ (name_x1, (Of unary.Vi (Number (pos 0)))) ∷ []); items = ((Data (Number (pos 64)) (Global name_arr) (Of2 binary.Cons (Of unary.Vi (Number (pos 1))) (Of2 binary.Cons (Of unary.Vi (Number (pos 2))) (Of2 binary.Cons (Of unary.Vi (Number (pos 0))) (Of2 binary.Cons (Of unary.Vi (Number (pos 0))) Nil))))) ∷ []) }) (name_k2 ∷ []) ([]) (name_k1 ∷ [])) (s.WithBlock (s.Then 9 (s.Meet ((Number (pos 0)) ∷ []) ([])) s.NoBlock s.End) (s.WithBlock (s.Then 10 (s.Have (Rel relation.Le (Of2 binary.Add (Named name_k1) (Number (pos 0))) (Of2 binary.Add (Number (pos 1)) (Named name_k1))) ((record { lines = ((line.Comb (((pos 1), 2) ∷ [])) ∷ []) }) ∷ [])) s.NoBlock (s.Then 11 (s.If ([]) ((record { lines = ((line.Comb (((pos 1), 0) ∷ ((pos 1), 3) ∷ [])) ∷ []) }) ∷ (record { lines = ((line.Comb (((pos 1), 1) ∷ ((pos 1), 3) ∷ [])) ∷ []) }) ∷ []) ([]) ([])) (s.WithBlock (s.Then 12 (s.Set ([]) ((record { lines = ((line.Comb (((pos 1), 0) ∷ ((pos 1), 4) ∷ [])) ∷ []) }) ∷ (record { lines = ((line.Comb (((pos 1), 1) ∷ ((pos 1), 4) ∷ [])) ∷ []) }) ∷ (record { lines = ((line.Comb (((pos 1), 0) ∷ ((pos 1), 4) ∷ [])) ∷ []) }) ∷ (record { lines = ((line.Comb (((pos 1), 1) ∷ ((pos 1), 4) ∷ [])) ∷ []) }) ∷ [])) s.NoBlock (s.Then 13 (s.Set ([]) ((record { lines = ((line.Comb (((pos 1), 0) ∷ ((pos 1), 4) ∷ [])) ∷ []) }) ∷ (record { lines = ((line.Comb (((pos 1), 1) ∷ ((pos 1), 4) ∷ [])) ∷ []) }) ∷ (record { lines = ((line.Comb (((pos 1), 0) ∷ ((pos 1), 4) ∷ [])) ∷ []) }) ∷ (record { lines = ((line.Comb (((pos 1), 1) ∷ ((pos 1), 4) ∷ [])) ∷ []) }) ∷ [])) s.NoBlock (s.Then 14 (s.Have (Rel relation.Le (Number (pos 0)) (Number (pos 7))) ([])) s.NoBlock (s.Then 15 (s.Pose (record { opened = []; facts = ([]); locals = []; items = ((Pred (record { name = name_zz; args = ((Number (pos 0)) ∷ []) })) ∷ []) }) ([]) ([])) (s.WithBlock s.End s.NoBlock) (s.Then 16 (s.Have (Rel relation.Le (Number (pos 0)) (Number (pos 7))) ([])) s.NoBlock (s.Then 17 s.Skip s.NoBlock (s.Then 18 (s.Fall ((Of2 binary.Add (Named name_k1) (Number (pos 1))) ∷ []) ((record { lines = ((line.Comb (((pos 1), 0) ∷ ((pos 1), 7) ∷ [])) ∷ []) }) ∷ [])) s.NoBlock s.End))))))) (s.WithBlock (s.Then 19 (s.Break ((Named name_k1) ∷ []) ([])) s.NoBlock s.End) s.NoBlock)) s.End)) s.NoBlock)) (s.Then 20 (s.Share 0 (Number (pos 63)) ([])) s.NoBlock (s.Then 21 (s.Unshare 1 0 ([])) s.NoBlock (s.Then 22 (s.Return ((Of2 binary.Cons (Of unary.Vi (Number (pos 1))) (Of2 binary.Cons (Of unary.Vi (Number (pos 2))) (Of2 binary.Cons (Of unary.Vi (Number (pos 0))) (Of2 binary.Cons (Of unary.Vi (Number (pos 0))) Nil)))) ∷ []) ([]) ([])) s.NoBlock s.End))))))))))) ≡ (RefusedAt 15 12 7)
unfolding computing
random_416 = refl

random_417 : body_verdict (record { predicates = ([]); specs = ((record { is_void = false; name = name_main; params = ([]); vars = []; pre = (record { opened = []; facts = ([]); locals = []; items = ((Data (Number (pos 64)) (Global name_arr) (Of2 binary.Cons (Of unary.Vi (Number (pos 1))) (Of2 binary.Cons (Of unary.Vi (Number (pos 2))) (Of2 binary.Cons (Of unary.Vi (Number (pos 0))) (Of2 binary.Cons (Of unary.Vi (Number (pos 0))) Nil))))) ∷ []) }); post = (record { opened = (sort.List ∷ []); facts = ([]); locals = []; items = ((Data (Number (pos 64)) (Global name_arr) (Var 1 sort.List)) ∷ []) }) }) ∷ []) }) (record { is_void = false; name = name_main; params = ([]); vars = []; pre = (record { opened = []; facts = ([]); locals = []; items = ((Data (Number (pos 64)) (Global name_arr) (Of2 binary.Cons (Of unary.Vi (Number (pos 1))) (Of2 binary.Cons (Of unary.Vi (Number (pos 2))) (Of2 binary.Cons (Of unary.Vi (Number (pos 0))) (Of2 binary.Cons (Of unary.Vi (Number (pos 0))) Nil))))) ∷ []) }); post = (record { opened = (sort.List ∷ []); facts = ([]); locals = []; items = ((Data (Number (pos 64)) (Global name_arr) (Var 1 sort.List)) ∷ []) }) }) (record { temps = (name_s ∷ name_t ∷ name_i ∷ name_x1 ∷ name_d0 ∷ name_p1 ∷ name_q1 ∷ []); body = (c.Then (c.Set 1 (c.Const 1)) (c.Then (c.Set 1 (c.Binary two.Add kind.Signed (c.Const 1) (c.Const 1))) (c.Then (c.Set 0 (c.Binary two.Sub kind.Signed (c.Temp 1) (c.Const 2))) (c.Then (c.Set 3 (c.Binary two.Add kind.Unsigned (c.Const 4294967295) (c.Const 1))) (c.Then (c.Set 2 (c.Const 0)) (c.Then (c.Loop (c.Then (c.If (c.Nonzero kind.Signed (c.Binary two.Lt kind.Signed (c.Temp 2) (c.Const 1))) (c.Then (c.Set 4 (c.Binary two.Add kind.Signed (c.Temp 2) (c.Const 1))) (c.Then (c.Set 2 (c.Binary two.Add kind.Signed (c.Temp 2) (c.Const 1))) (c.Then c.Skip c.End))) (c.Then c.Break c.End)) c.End)) (c.Then (c.Return (Some (c.Temp 1))) c.End))))))) }) (s.Then 1 (s.Set ([]) ([])) s.NoBlock (s.Then 2 (s.Set ([]) ([])) s.NoBlock (s.Then 3 (s.Set ([]) ([])) s.NoBlock (s.Then 4 (s.Set ([]) ([])) s.NoBlock (s.Then 5 (s.Set ([]) ([])) s.NoBlock (s.Then 6 (s.Share 0 (Number (pos 1)) ([])) s.NoBlock (s.Then 7 (s.Malloc name_zz ([]) ([])) (s.WithBlock s.End (s.WithBlock s.End s.NoBlock)) (s.Then 8 (s.Unshare 0 1 ([])) s.NoBlock (s.Then 9 (s.While (record { opened = (sort.Int ∷ []); facts = ((Rel relation.Le (Number (pos 0)) (Var 0 sort.Int)) ∷ (Rel relation.Le (Var 0 sort.Int) (Number (pos 1))) ∷ []); locals = ((name_s, (Of unary.Vi (Number (pos 0)))) ∷ (name_t, (Of unary.Vi (Number (pos 2)))) ∷ (name_i, (Of unary.Vi (Var 0 sort.Int))) ∷ (name_x1, (Of unary.Vi (Number (pos 0)))) ∷ []); items = ((Data (Number (pos 64)) (Global name_arr) (Of2 binary.Cons (Of unary.Vi (Number (pos 1))) (Of2 binary.Cons (Of unary.Vi (Number (pos 2))) (Of2 binary.Cons (Of unary.Vi (Number (pos 0))) (Of2 binary.Cons (Of unary.Vi (Number (pos 0))) Nil))))) ∷ []) }) (record { opened = (sort.Int ∷ []); facts = ((Rel relation.Le (Number (pos 0)) (Var 0 sort.Int)) ∷ (Rel relation.Le (Var 0 sort.Int) (Number (pos 1))) ∷ (Rel relation.Le (Number (pos 1)) (Var 0 sort.Int)) ∷ []); locals = ((name_s, (Of unary.Vi (Number (pos 0)))) ∷ (name_t, (Of unary.Vi (Number (pos 2)))) ∷ (name_i, (Of unary.Vi (Var 0 sort.Int))) ∷ (name_x1, (Of unary.Vi (Number (pos 0)))) ∷ []); items = ((Data (Number (pos 64)) (Global name_arr) (Of2 binary.Cons (Of unary.Vi (Number (pos 1))) (Of2 binary.Cons (Of unary.Vi (Number (pos 2))) (Of2 binary.Cons (Of unary.Vi (Number (pos 0))) (Of2 binary.Cons (Of unary.Vi (Number (pos 0))) Nil))))) ∷ []) }) (name_k2 ∷ []) ([]) (name_k1 ∷ [])) (s.WithBlock (s.Then 10 (s.Meet ((Number (pos 0)) ∷ []) ([])) s.NoBlock s.End) (s.WithBlock (s.Then 11 (s.Have (Rel relation.Le (Of2 binary.Add (Named name_k1) (Number (pos 0))) (Of2 binary.Add (Number (pos 1)) (Named name_k1))) ((record { lines = ((line.Comb (((pos 1), 2) ∷ [])) ∷ []) }) ∷ [])) s.NoBlock (s.Then 12 (s.If ([]) ((record { lines = ((line.Comb (((pos 1), 0) ∷ ((pos 1), 3) ∷ [])) ∷ []) }) ∷ (record { lines = ((line.Comb (((pos 1), 1) ∷ ((pos 1), 3) ∷ [])) ∷ []) }) ∷ []) ([]) ([])) (s.WithBlock (s.Then 13 (s.Set ([]) ((record { lines = ((line.Comb (((pos 1), 0) ∷ ((pos 1), 4) ∷ [])) ∷ []) }) ∷ (record { lines = ((line.Comb (((pos 1), 1) ∷ ((pos 1), 4) ∷ [])) ∷ []) }) ∷ (record { lines = ((line.Comb (((pos 1), 0) ∷ ((pos 1), 4) ∷ [])) ∷ []) }) ∷ (record { lines = ((line.Comb (((pos 1), 1) ∷ ((pos 1), 4) ∷ [])) ∷ []) }) ∷ [])) s.NoBlock (s.Then 14 (s.Set ([]) ((record { lines = ((line.Comb (((pos 1), 0) ∷ ((pos 1), 4) ∷ [])) ∷ []) }) ∷ (record { lines = ((line.Comb (((pos 1), 1) ∷ ((pos 1), 4) ∷ [])) ∷ []) }) ∷ (record { lines = ((line.Comb (((pos 1), 0) ∷ ((pos 1), 4) ∷ [])) ∷ []) }) ∷ (record { lines = ((line.Comb (((pos 1), 1) ∷ ((pos 1), 4) ∷ [])) ∷ []) }) ∷ [])) s.NoBlock (s.Then 15 (s.Have (Rel relation.Le (Number (pos 0)) (Number (pos 7))) ([])) s.NoBlock (s.Then 16 (s.Have (Rel relation.Le (Named name_k1) (Of2 binary.Add (Named name_k1) (Number (pos 1)))) ([])) s.NoBlock (s.Then 17 (s.Have (Rel relation.Le (Number (pos 0)) (Number (pos 7))) ([])) s.NoBlock (s.Then 18 s.Skip s.NoBlock (s.Then 19 (s.Fall ((Of2 binary.Add (Named name_k1) (Number (pos 1))) ∷ []) ((record { lines = ((line.Comb (((pos 1), 0) ∷ ((pos 1), 7) ∷ [])) ∷ []) }) ∷ [])) s.NoBlock s.End))))))) (s.WithBlock (s.Then 20 (s.Break ((Named name_k1) ∷ []) ([])) s.NoBlock s.End) s.NoBlock)) s.End)) s.NoBlock)) (s.Then 21 (s.Share 0 (Number (pos 63)) ([])) s.NoBlock (s.Then 22 (s.Unshare 1 0 ([])) s.NoBlock (s.Then 23 (s.Return ((Of2 binary.Cons (Of unary.Vi (Number (pos 1))) (Of2 binary.Cons (Of unary.Vi (Number (pos 2))) (Of2 binary.Cons (Of unary.Vi (Number (pos 0))) (Of2 binary.Cons (Of unary.Vi (Number (pos 0))) Nil)))) ∷ []) ([]) ([])) s.NoBlock s.End)))))))))))) ≡ (RefusedAt 7 14 1)
unfolding computing
random_417 = refl

random_418 : body_verdict (record { predicates = ([]); specs = ((record { is_void = false; name = name_get; params = (name_p ∷ []); vars = ((name_v, sort.Val) ∷ (name_w, sort.Val) ∷ (name_s, sort.Int) ∷ []); pre = (record { opened = []; facts = ((Rel relation.Le (Number (pos 1)) (Var 2 sort.Int)) ∷ []); locals = ((name_p, (Var 0 sort.Val)) ∷ []); items = ((Data (Var 2 sort.Int) (Var 0 sort.Val) (Of2 binary.Cons (Var 1 sort.Val) Nil)) ∷ []) }); post = (record { opened = []; facts = ((Rel relation.Eq (Var 3 sort.Val) (Var 1 sort.Val)) ∷ []); locals = []; items = ((Data (Var 2 sort.Int) (Var 0 sort.Val) (Of2 binary.Cons (Var 1 sort.Val) Nil)) ∷ []) }) }) ∷ (record { is_void = true; name = name_f; params = (name_p00 ∷ []); vars = ((name_v0, sort.Val) ∷ (name_o0, sort.Int) ∷ []); pre = (record { opened = []; facts = ((Rel relation.Le (Number (pos 0)) (Var 1 sort.Int)) ∷ (Rel relation.Le (Var 1 sort.Int) (Number (pos 20))) ∷ []); locals = ((name_p00, (Var 0 sort.Val)) ∷ []); items = ((Data (Number (pos 64)) (Global name_g) (Of2 binary.Cons (Of unary.Vi (Number (pos 3))) Nil)) ∷ (Data (Number (pos 64)) (Global name_x) (Of2 binary.Cons (Of unary.Vi (Number (pos 3))) Nil)) ∷ (Data (Number (pos 64)) (Var 0 sort.Val) (Of2 binary.Cons (Of unary.Vi (Var 1 sort.Int)) Nil)) ∷ []) }); post = (record { opened = (sort.List ∷ sort.List ∷ []); facts = ([]); locals = []; items = ((Data (Number (pos 64)) (Global name_x) (Var 3 sort.List)) ∷ (Data (Number (pos 64)) (Var 0 sort.Val) (Var 4 sort.List)) ∷ (Data (Number (pos 64)) (Global name_g) (Var 3 sort.List)) ∷ []) }) }) ∷ (record { is_void = false; name = name_main; params = ([]); vars = []; pre = (record { opened = []; facts = ([]); locals = []; items = ((Data (Number (pos 64)) (Global name_g) (Of2 binary.Cons (Of unary.Vi (Number (pos 3))) Nil)) ∷ (Data (Number (pos 64)) (Global name_x) (Of2 binary.Cons (Of unary.Vi (Number (pos 3))) Nil)) ∷ []) }); post = (record { opened = []; facts = ((Rel relation.Eq (Var 0 sort.Val) (Of unary.Vi (Number (pos 0)))) ∷ []); locals = []; items = ((Data (Number (pos 64)) (Global name_g) (Of2 binary.Cons (Of unary.Vi (Number (pos 3))) Nil)) ∷ (Data (Number (pos 64)) (Global name_x) (Of2 binary.Cons (Of unary.Vi (Number (pos 3))) Nil)) ∷ []) }) }) ∷ []) }) (record { is_void = false; name = name_main; params = ([]); vars = []; pre = (record { opened = []; facts = ([]); locals = []; items = ((Data (Number (pos 64)) (Global name_g) (Of2 binary.Cons (Of unary.Vi (Number (pos 3))) Nil)) ∷ (Data (Number (pos 64)) (Global name_x) (Of2 binary.Cons (Of unary.Vi (Number (pos 3))) Nil)) ∷ []) }); post = (record { opened = []; facts = ((Rel relation.Eq (Var 0 sort.Val) (Of unary.Vi (Number (pos 0)))) ∷ []); locals = []; items = ((Data (Number (pos 64)) (Global name_g) (Of2 binary.Cons (Of unary.Vi (Number (pos 3))) Nil)) ∷ (Data (Number (pos 64)) (Global name_x) (Of2 binary.Cons (Of unary.Vi (Number (pos 3))) Nil)) ∷ []) }) }) (record { temps = ([]); body = (c.Then (c.Return (Some (c.Const 0))) c.End) }) (s.Then 1 (s.Return ([]) ([]) ([])) s.NoBlock (s.Then 2 (s.Return ([]) ([]) ([])) s.NoBlock s.End)) ≡ (RefusedAt 2 0 11)
unfolding computing
random_418 = refl

random_419 : body_verdict (record { predicates = ([]); specs = ((record { is_void = false; name = name_get; params = (name_p ∷ []); vars = ((name_v, sort.Val) ∷ (name_w, sort.Val) ∷ (name_s, sort.Int) ∷ []); pre = (record { opened = []; facts = ((Rel relation.Le (Number (pos 1)) (Var 2 sort.Int)) ∷ []); locals = ((name_p, (Var 0 sort.Val)) ∷ []); items = ((Data (Var 2 sort.Int) (Var 0 sort.Val) (Of2 binary.Cons (Var 1 sort.Val) Nil)) ∷ []) }); post = (record { opened = []; facts = ((Rel relation.Eq (Var 3 sort.Val) (Var 1 sort.Val)) ∷ []); locals = []; items = ((Data (Var 2 sort.Int) (Var 0 sort.Val) (Of2 binary.Cons (Var 1 sort.Val) Nil)) ∷ []) }) }) ∷ (record { is_void = true; name = name_f; params = (name_p00 ∷ []); vars = ((name_v0, sort.Val) ∷ (name_o0, sort.Int) ∷ []); pre = (record { opened = []; facts = ((Rel relation.Le (Number (pos 0)) (Var 1 sort.Int)) ∷ (Rel relation.Le (Var 1 sort.Int) (Number (pos 20))) ∷ []); locals = ((name_p00, (Var 0 sort.Val)) ∷ []); items = ((Data (Number (pos 64)) (Global name_g) (Of2 binary.Cons (Of unary.Vi (Number (pos 3))) Nil)) ∷ (Data (Number (pos 64)) (Global name_x) (Of2 binary.Cons (Of unary.Vi (Number (pos 3))) Nil)) ∷ (Data (Number (pos 64)) (Var 0 sort.Val) (Of2 binary.Cons (Of unary.Vi (Var 1 sort.Int)) Nil)) ∷ []) }); post = (record { opened = (sort.List ∷ sort.List ∷ []); facts = ([]); locals = []; items = ((Data (Number (pos 64)) (Global name_x) (Var 3 sort.List)) ∷ (Data (Number (pos 64)) (Var 0 sort.Val) (Var 4 sort.List)) ∷ (Data (Number (pos 64)) (Global name_g) (Var 3 sort.List)) ∷ []) }) }) ∷ (record { is_void = false; name = name_main; params = ([]); vars = []; pre = (record { opened = []; facts = ([]); locals = []; items = ((Data (Number (pos 64)) (Global name_g) (Of2 binary.Cons (Of unary.Vi (Number (pos 3))) Nil)) ∷ (Data (Number (pos 64)) (Global name_x) (Of2 binary.Cons (Of unary.Vi (Number (pos 3))) Nil)) ∷ []) }); post = (record { opened = []; facts = ((Rel relation.Eq (Var 0 sort.Val) (Of unary.Vi (Number (pos 0)))) ∷ []); locals = []; items = ((Data (Number (pos 64)) (Global name_g) (Of2 binary.Cons (Of unary.Vi (Number (pos 3))) Nil)) ∷ (Data (Number (pos 64)) (Global name_x) (Of2 binary.Cons (Of unary.Vi (Number (pos 3))) Nil)) ∷ []) }) }) ∷ []) }) (record { is_void = true; name = name_f; params = (name_p00 ∷ []); vars = ((name_v0, sort.Val) ∷ (name_o0, sort.Int) ∷ []); pre = (record { opened = []; facts = ((Rel relation.Le (Number (pos 0)) (Var 1 sort.Int)) ∷ (Rel relation.Le (Var 1 sort.Int) (Number (pos 20))) ∷ []); locals = ((name_p00, (Var 0 sort.Val)) ∷ []); items = ((Data (Number (pos 64)) (Global name_g) (Of2 binary.Cons (Of unary.Vi (Number (pos 3))) Nil)) ∷ (Data (Number (pos 64)) (Global name_x) (Of2 binary.Cons (Of unary.Vi (Number (pos 3))) Nil)) ∷ (Data (Number (pos 64)) (Var 0 sort.Val) (Of2 binary.Cons (Of unary.Vi (Var 1 sort.Int)) Nil)) ∷ []) }); post = (record { opened = (sort.List ∷ sort.List ∷ []); facts = ([]); locals = []; items = ((Data (Number (pos 64)) (Global name_x) (Var 3 sort.List)) ∷ (Data (Number (pos 64)) (Var 0 sort.Val) (Var 4 sort.List)) ∷ (Data (Number (pos 64)) (Global name_g) (Var 3 sort.List)) ∷ []) }) }) (record { temps = (name_p00 ∷ name_s ∷ name_t ∷ name_i ∷ name_x1 ∷ name_d0 ∷ name_p1 ∷ name_q1 ∷ []); body = (c.Then (c.Set 1 (c.Const 0)) (c.Then (c.Set 2 (c.Const 1)) (c.Then (c.Call (Some 1) name_get ((c.Address (root.Global name_g 1) c.Here) ∷ [])) (c.Then (c.Set 1 (c.Binary two.Add kind.Signed (c.Const 3) (c.Const 1))) (c.Then (c.If (c.Nonzero kind.Signed (c.Binary two.Ne kind.Signed (c.Temp 2) (c.Const 5))) c.End (c.Then (c.Set 1 (c.Const 3)) c.End)) (c.Then (c.Set 4 (c.Binary two.Add kind.Unsigned (c.Const 4294967295) (c.Const 1))) (c.Then (c.Set 1 (c.Binary two.Sub kind.Signed (c.Const 2) (c.Const 1))) (c.Then (c.Load 1 (root.Temp 0) c.Here) (c.Then (c.Return None) c.End))))))))) }) (s.Then 1 (s.Set ([]) ([])) s.NoBlock (s.Then 2 (s.Set ([]) ([])) s.NoBlock (s.Then 3 (s.Call ((Global name_g) ∷ (Of unary.Vi (Number (pos 3))) ∷ (Number (pos 64)) ∷ []) ([]) ([]) (name_k1 ∷ [])) s.NoBlock (s.Then 4 (s.Set ([]) ([])) s.NoBlock (s.Then 5 (s.If ([]) ([]) ([]) ([])) (s.WithBlock (s.Then 6 (s.Set ([]) ([])) s.NoBlock (s.Then 7 (s.Load 1 ([]) ([])) s.NoBlock (s.Then 8 (s.Return ((Of2 binary.Cons (Of unary.Vi (Number (pos 3))) Nil) ∷ (Of2 binary.Cons (Of unary.Vi (Named name_o0)) Nil) ∷ []) ([]) ([])) s.NoBlock s.End))) (s.WithBlock (s.Then 9 (s.Absurd ([])) s.NoBlock s.End) s.NoBlock)) s.End))))) ≡ (RefusedAt 7 3 1)
unfolding computing
random_419 = refl

random_420 : body_verdict (record { predicates = ([]); specs = ((record { is_void = false; name = name_get; params = (name_p ∷ []); vars = ((name_v, sort.Val) ∷ (name_w, sort.Val) ∷ (name_s, sort.Int) ∷ []); pre = (record { opened = []; facts = ((Rel relation.Le (Number (pos 1)) (Var 2 sort.Int)) ∷ []); locals = ((name_p, (Var 0 sort.Val)) ∷ []); items = ((Data (Var 2 sort.Int) (Var 0 sort.Val) (Of2 binary.Cons (Var 1 sort.Val) Nil)) ∷ []) }); post = (record { opened = []; facts = ((Rel relation.Eq (Var 3 sort.Val) (Var 1 sort.Val)) ∷ []); locals = []; items = ((Data (Var 2 sort.Int) (Var 0 sort.Val) (Of2 binary.Cons (Var 1 sort.Val) Nil)) ∷ []) }) }) ∷ (record { is_void = true; name = name_f; params = (name_p00 ∷ []); vars = ((name_v0, sort.Val) ∷ (name_o0, sort.Int) ∷ []); pre = (record { opened = []; facts = ((Rel relation.Le (Number (pos 0)) (Var 1 sort.Int)) ∷ (Rel relation.Le (Var 1 sort.Int) (Number (pos 20))) ∷ []); locals = ((name_p00, (Var 0 sort.Val)) ∷ []); items = ((Data (Number (pos 64)) (Global name_g) (Of2 binary.Cons (Of unary.Vi (Number (pos 3))) Nil)) ∷ (Data (Number (pos 64)) (Global name_x) (Of2 binary.Cons (Of unary.Vi (Number (pos 3))) Nil)) ∷ (Data (Number (pos 64)) (Var 0 sort.Val) (Of2 binary.Cons (Of unary.Vi (Var 1 sort.Int)) Nil)) ∷ []) }); post = (record { opened = (sort.List ∷ sort.List ∷ []); facts = ([]); locals = []; items = ((Data (Number (pos 64)) (Global name_x) (Var 3 sort.List)) ∷ (Data (Number (pos 64)) (Var 0 sort.Val) (Var 4 sort.List)) ∷ (Data (Number (pos 64)) (Global name_g) (Var 3 sort.List)) ∷ []) }) }) ∷ (record { is_void = false; name = name_main; params = ([]); vars = []; pre = (record { opened = []; facts = ([]); locals = []; items = ((Data (Number (pos 64)) (Global name_g) (Of2 binary.Cons (Of unary.Vi (Number (pos 3))) Nil)) ∷ (Data (Number (pos 64)) (Global name_x) (Of2 binary.Cons (Of unary.Vi (Number (pos 3))) Nil)) ∷ []) }); post = (record { opened = []; facts = ((Rel relation.Eq (Var 0 sort.Val) (Of unary.Vi (Number (pos 0)))) ∷ []); locals = []; items = ((Data (Number (pos 64)) (Global name_g) (Of2 binary.Cons (Of unary.Vi (Number (pos 3))) Nil)) ∷ (Data (Number (pos 64)) (Global name_x) (Of2 binary.Cons (Of unary.Vi (Number (pos 3))) Nil)) ∷ []) }) }) ∷ []) }) (record { is_void = true; name = name_f; params = (name_p00 ∷ []); vars = ((name_v0, sort.Val) ∷ (name_o0, sort.Int) ∷ []); pre = (record { opened = []; facts = ((Rel relation.Le (Number (pos 0)) (Var 1 sort.Int)) ∷ (Rel relation.Le (Var 1 sort.Int) (Number (pos 20))) ∷ []); locals = ((name_p00, (Var 0 sort.Val)) ∷ []); items = ((Data (Number (pos 64)) (Global name_g) (Of2 binary.Cons (Of unary.Vi (Number (pos 3))) Nil)) ∷ (Data (Number (pos 64)) (Global name_x) (Of2 binary.Cons (Of unary.Vi (Number (pos 3))) Nil)) ∷ (Data (Number (pos 64)) (Var 0 sort.Val) (Of2 binary.Cons (Of unary.Vi (Var 1 sort.Int)) Nil)) ∷ []) }); post = (record { opened = (sort.List ∷ sort.List ∷ []); facts = ([]); locals = []; items = ((Data (Number (pos 64)) (Global name_x) (Var 3 sort.List)) ∷ (Data (Number (pos 64)) (Var 0 sort.Val) (Var 4 sort.List)) ∷ (Data (Number (pos 64)) (Global name_g) (Var 3 sort.List)) ∷ []) }) }) (record { temps = (name_p00 ∷ name_s ∷ name_t ∷ name_i ∷ name_x1 ∷ name_d0 ∷ name_p1 ∷ name_q1 ∷ []); body = (c.Then (c.Set 1 (c.Const 0)) (c.Then (c.Set 2 (c.Const 1)) (c.Then (c.Call (Some 1) name_get ((c.Address (root.Global name_g 1) c.Here) ∷ [])) (c.Then (c.Set 1 (c.Binary two.Add kind.Signed (c.Const 3) (c.Const 1))) (c.Then (c.If (c.Nonzero kind.Signed (c.Binary two.Ne kind.Signed (c.Temp 2) (c.Const 5))) c.End (c.Then (c.Set 1 (c.Const 3)) c.End)) (c.Then (c.Set 4 (c.Binary two.Add kind.Unsigned (c.Const 4294967295) (c.Const 1))) (c.Then (c.Set 1 (c.Binary two.Sub kind.Signed (c.Const 2) (c.Const 1))) (c.Then (c.Load 1 (root.Temp 0) c.Here) (c.Then (c.Return None) c.End))))))))) }) (s.Then 1 (s.Set ([]) ([])) s.NoBlock (s.Then 2 (s.Set ([]) ([])) s.NoBlock (s.Then 3 (s.Call ((Global name_g) ∷ (Of unary.Vi (Number (pos 3))) ∷ (Number (pos 64)) ∷ []) ([]) ([]) (name_k1 ∷ [])) s.NoBlock (s.Then 4 (s.Set ([]) ([])) s.NoBlock (s.Then 5 (s.If ([]) ([]) ([]) ([])) (s.WithBlock (s.Then 6 (s.Set ([]) ([])) s.NoBlock (s.Then 7 (s.Set ([]) ([])) s.NoBlock (s.Then 8 (s.Load 1 ([]) ([])) s.NoBlock (s.Then 9 (s.Load 1 ([]) ([])) s.NoBlock (s.Then 10 (s.Return ((Of2 binary.Cons (Of unary.Vi (Number (pos 3))) Nil) ∷ (Of2 binary.Cons (Of unary.Vi (Named name_o0)) Nil) ∷ []) ([]) ([])) s.NoBlock s.End))))) (s.WithBlock (s.Then 11 (s.Absurd ([])) s.NoBlock s.End) s.NoBlock)) s.End))))) ≡ (RefusedAt 9 3 1)
unfolding computing
random_420 = refl

random_421 : body_verdict (record { predicates = ([]); specs = ((record { is_void = false; name = name_get; params = (name_p ∷ []); vars = ((name_v, sort.Val) ∷ (name_w, sort.Val) ∷ (name_s, sort.Int) ∷ []); pre = (record { opened = []; facts = ((Rel relation.Le (Number (pos 1)) (Var 2 sort.Int)) ∷ []); locals = ((name_p, (Var 0 sort.Val)) ∷ []); items = ((Data (Var 2 sort.Int) (Var 0 sort.Val) (Of2 binary.Cons (Var 1 sort.Val) Nil)) ∷ []) }); post = (record { opened = []; facts = ((Rel relation.Eq (Var 3 sort.Val) (Var 1 sort.Val)) ∷ []); locals = []; items = ((Data (Var 2 sort.Int) (Var 0 sort.Val) (Of2 binary.Cons (Var 1 sort.Val) Nil)) ∷ []) }) }) ∷ (record { is_void = true; name = name_f; params = (name_p00 ∷ []); vars = ((name_v0, sort.Val) ∷ (name_o0, sort.Int) ∷ []); pre = (record { opened = []; facts = ((Rel relation.Le (Number (pos 0)) (Var 1 sort.Int)) ∷ (Rel relation.Le (Var 1 sort.Int) (Number (pos 20))) ∷ []); locals = ((name_p00, (Var 0 sort.Val)) ∷ []); items = ((Data (Number (pos 64)) (Global name_g) (Of2 binary.Cons (Of unary.Vi (Number (pos 3))) Nil)) ∷ (Data (Number (pos 64)) (Global name_x) (Of2 binary.Cons (Of unary.Vi (Number (pos 3))) Nil)) ∷ (Data (Number (pos 64)) (Var 0 sort.Val) (Of2 binary.Cons (Of unary.Vi (Var 1 sort.Int)) Nil)) ∷ []) }); post = (record { opened = (sort.List ∷ sort.List ∷ []); facts = ([]); locals = []; items = ((Data (Number (pos 64)) (Global name_x) (Var 3 sort.List)) ∷ (Data (Number (pos 64)) (Var 0 sort.Val) (Var 4 sort.List)) ∷ (Data (Number (pos 64)) (Global name_g) (Var 3 sort.List)) ∷ []) }) }) ∷ (record { is_void = false; name = name_main; params = ([]); vars = []; pre = (record { opened = []; facts = ([]); locals = []; items = ((Data (Number (pos 64)) (Global name_g) (Of2 binary.Cons (Of unary.Vi (Number (pos 3))) Nil)) ∷ (Data (Number (pos 64)) (Global name_x) (Of2 binary.Cons (Of unary.Vi (Number (pos 3))) Nil)) ∷ []) }); post = (record { opened = []; facts = ((Rel relation.Eq (Var 0 sort.Val) (Of unary.Vi (Number (pos 0)))) ∷ []); locals = []; items = ((Data (Number (pos 64)) (Global name_g) (Of2 binary.Cons (Of unary.Vi (Number (pos 3))) Nil)) ∷ (Data (Number (pos 64)) (Global name_x) (Of2 binary.Cons (Of unary.Vi (Number (pos 3))) Nil)) ∷ []) }) }) ∷ []) }) (record { is_void = true; name = name_f; params = (name_p00 ∷ []); vars = ((name_v0, sort.Val) ∷ (name_o0, sort.Int) ∷ []); pre = (record { opened = []; facts = ((Rel relation.Le (Number (pos 0)) (Var 1 sort.Int)) ∷ (Rel relation.Le (Var 1 sort.Int) (Number (pos 20))) ∷ []); locals = ((name_p00, (Var 0 sort.Val)) ∷ []); items = ((Data (Number (pos 64)) (Global name_g) (Of2 binary.Cons (Of unary.Vi (Number (pos 3))) Nil)) ∷ (Data (Number (pos 64)) (Global name_x) (Of2 binary.Cons (Of unary.Vi (Number (pos 3))) Nil)) ∷ (Data (Number (pos 64)) (Var 0 sort.Val) (Of2 binary.Cons (Of unary.Vi (Var 1 sort.Int)) Nil)) ∷ []) }); post = (record { opened = (sort.List ∷ sort.List ∷ []); facts = ([]); locals = []; items = ((Data (Number (pos 64)) (Global name_x) (Var 3 sort.List)) ∷ (Data (Number (pos 64)) (Var 0 sort.Val) (Var 4 sort.List)) ∷ (Data (Number (pos 64)) (Global name_g) (Var 3 sort.List)) ∷ []) }) }) (record { temps = (name_p00 ∷ name_s ∷ name_t ∷ name_i ∷ name_x1 ∷ name_d0 ∷ name_p1 ∷ name_q1 ∷ []); body = (c.Then (c.Set 1 (c.Const 0)) (c.Then (c.Set 2 (c.Const 1)) (c.Then (c.Call (Some 1) name_get ((c.Address (root.Global name_g 1) c.Here) ∷ [])) (c.Then (c.Set 1 (c.Binary two.Add kind.Signed (c.Const 3) (c.Const 1))) (c.Then (c.If (c.Nonzero kind.Signed (c.Binary two.Ne kind.Signed (c.Temp 2) (c.Const 5))) c.End (c.Then (c.Set 1 (c.Const 3)) c.End)) (c.Then (c.Set 4 (c.Binary two.Add kind.Unsigned (c.Const 4294967295) (c.Const 1))) (c.Then (c.Set 1 (c.Binary two.Sub kind.Signed (c.Const 2) (c.Const 1))) (c.Then (c.Load 1 (root.Temp 0) c.Here) (c.Then (c.Return None) c.End))))))))) }) (s.Then 1 (s.Set ([]) ([])) s.NoBlock (s.Then 2 (s.Set ([]) ([])) s.NoBlock (s.Then 3 (s.Call ((Global name_g) ∷ (Of unary.Vi (Number (pos 3))) ∷ (Number (pos 64)) ∷ []) ([]) ([]) (name_k1 ∷ [])) s.NoBlock (s.Then 4 (s.Set ([]) ([])) s.NoBlock (s.Then 5 (s.If ([]) ([]) ([]) ([])) (s.WithBlock (s.Then 6 (s.Set ([]) ([])) s.NoBlock (s.Then 7 (s.Set ([]) ([])) s.NoBlock (s.Then 8 (s.Absurd ([])) s.NoBlock (s.Then 9 (s.Return ((Of2 binary.Cons (Of unary.Vi (Number (pos 3))) Nil) ∷ (Of2 binary.Cons (Of unary.Vi (Named name_o0)) Nil) ∷ []) ([]) ([])) s.NoBlock s.End)))) (s.WithBlock (s.Then 10 (s.Load 1 ([]) ([])) s.NoBlock s.End) s.NoBlock)) s.End))))) ≡ (RefusedAt 8 24 3)
unfolding computing
random_421 = refl

random_422 : body_verdict (record { predicates = ([]); specs = ((record { is_void = false; name = name_get; params = (name_p ∷ []); vars = ((name_v, sort.Val) ∷ (name_w, sort.Val) ∷ (name_s, sort.Int) ∷ []); pre = (record { opened = []; facts = ((Rel relation.Le (Number (pos 1)) (Var 2 sort.Int)) ∷ []); locals = ((name_p, (Var 0 sort.Val)) ∷ []); items = ((Data (Var 2 sort.Int) (Var 0 sort.Val) (Of2 binary.Cons (Var 1 sort.Val) Nil)) ∷ []) }); post = (record { opened = []; facts = ((Rel relation.Eq (Var 3 sort.Val) (Var 1 sort.Val)) ∷ []); locals = []; items = ((Data (Var 2 sort.Int) (Var 0 sort.Val) (Of2 binary.Cons (Var 1 sort.Val) Nil)) ∷ []) }) }) ∷ (record { is_void = true; name = name_f; params = (name_p00 ∷ []); vars = ((name_v0, sort.Val) ∷ (name_o0, sort.Int) ∷ []); pre = (record { opened = []; facts = ((Rel relation.Le (Number (pos 0)) (Var 1 sort.Int)) ∷ (Rel relation.Le (Var 1 sort.Int) (Number (pos 20))) ∷ []); locals = ((name_p00, (Var 0 sort.Val)) ∷ []); items = ((Data (Number (pos 64)) (Global name_g) (Of2 binary.Cons (Of unary.Vi (Number (pos 3))) Nil)) ∷ (Data (Number (pos 64)) (Global name_x) (Of2 binary.Cons (Of unary.Vi (Number (pos 3))) Nil)) ∷ (Data (Number (pos 64)) (Var 0 sort.Val) (Of2 binary.Cons (Of unary.Vi (Var 1 sort.Int)) Nil)) ∷ []) }); post = (record { opened = (sort.List ∷ sort.List ∷ []); facts = ([]); locals = []; items = ((Data (Number (pos 64)) (Global name_x) (Var 3 sort.List)) ∷ (Data (Number (pos 64)) (Var 0 sort.Val) (Var 4 sort.List)) ∷ (Data (Number (pos 64)) (Global name_g) (Var 3 sort.List)) ∷ []) }) }) ∷ (record { is_void = false; name = name_main; params = ([]); vars = []; pre = (record { opened = []; facts = ([]); locals = []; items = ((Data (Number (pos 64)) (Global name_g) (Of2 binary.Cons (Of unary.Vi (Number (pos 3))) Nil)) ∷ (Data (Number (pos 64)) (Global name_x) (Of2 binary.Cons (Of unary.Vi (Number (pos 3))) Nil)) ∷ []) }); post = (record { opened = []; facts = ((Rel relation.Eq (Var 0 sort.Val) (Of unary.Vi (Number (pos 0)))) ∷ []); locals = []; items = ((Data (Number (pos 64)) (Global name_g) (Of2 binary.Cons (Of unary.Vi (Number (pos 3))) Nil)) ∷ (Data (Number (pos 64)) (Global name_x) (Of2 binary.Cons (Of unary.Vi (Number (pos 3))) Nil)) ∷ []) }) }) ∷ []) }) (record { is_void = true; name = name_f; params = (name_p00 ∷ []); vars = ((name_v0, sort.Val) ∷ (name_o0, sort.Int) ∷ []); pre = (record { opened = []; facts = ((Rel relation.Le (Number (pos 0)) (Var 1 sort.Int)) ∷ (Rel relation.Le (Var 1 sort.Int) (Number (pos 20))) ∷ []); locals = ((name_p00, (Var 0 sort.Val)) ∷ []); items = ((Data (Number (pos 64)) (Global name_g) (Of2 binary.Cons (Of unary.Vi (Number (pos 3))) Nil)) ∷ (Data (Number (pos 64)) (Global name_x) (Of2 binary.Cons (Of unary.Vi (Number (pos 3))) Nil)) ∷ (Data (Number (pos 64)) (Var 0 sort.Val) (Of2 binary.Cons (Of unary.Vi (Var 1 sort.Int)) Nil)) ∷ []) }); post = (record { opened = (sort.List ∷ sort.List ∷ []); facts = ([]); locals = []; items = ((Data (Number (pos 64)) (Global name_x) (Var 3 sort.List)) ∷ (Data (Number (pos 64)) (Var 0 sort.Val) (Var 4 sort.List)) ∷ (Data (Number (pos 64)) (Global name_g) (Var 3 sort.List)) ∷ []) }) }) (record { temps = (name_p00 ∷ name_s ∷ name_t ∷ name_i ∷ name_x1 ∷ name_d0 ∷ name_p1 ∷ name_q1 ∷ []); body = (c.Then (c.Set 1 (c.Const 0)) (c.Then (c.Set 2 (c.Const 1)) (c.Then (c.Call (Some 1) name_get ((c.Address (root.Global name_g 1) c.Here) ∷ [])) (c.Then (c.Set 1 (c.Binary two.Add kind.Signed (c.Const 3) (c.Const 1))) (c.Then (c.If (c.Nonzero kind.Signed (c.Binary two.Ne kind.Signed (c.Temp 2) (c.Const 5))) c.End (c.Then (c.Set 1 (c.Const 3)) c.End)) (c.Then (c.Set 4 (c.Binary two.Add kind.Unsigned (c.Const 4294967295) (c.Const 1))) (c.Then (c.Set 1 (c.Binary two.Sub kind.Signed (c.Const 2) (c.Const 1))) (c.Then (c.Load 1 (root.Temp 0) c.Here) (c.Then (c.Return None) c.End))))))))) }) (s.Then 1 (s.Set ([]) ([])) s.NoBlock (s.Then 2 (s.Set ([]) ([])) s.NoBlock (s.Then 3 (s.Call ((Global name_g) ∷ (Of unary.Vi (Number (pos 3))) ∷ (Number (pos 64)) ∷ []) ([]) ([]) (name_k1 ∷ [])) s.NoBlock (s.Then 4 (s.Set ([]) ([])) s.NoBlock (s.Then 5 (s.If ([]) ([]) ([]) ([])) (s.WithBlock (s.Then 6 (s.Set ([]) ([])) s.NoBlock (s.Then 7 (s.Set ([]) ([])) s.NoBlock (s.Then 8 (s.Return ((Of2 binary.Cons (Of unary.Vi (Number (pos 3))) Nil) ∷ (Of2 binary.Cons (Of unary.Vi (Named name_o0)) Nil) ∷ []) ([]) ([])) s.NoBlock s.End))) (s.WithBlock (s.Then 9 (s.Absurd ([])) s.NoBlock s.End) s.NoBlock)) s.End))))) ≡ (RefusedAt 8 9 1)
unfolding computing
random_422 = refl

random_423 : body_verdict (record { predicates = ([]); specs = ((record { is_void = false; name = name_get; params = (name_p ∷ []); vars = ((name_v, sort.Val) ∷ (name_w, sort.Val) ∷ (name_s, sort.Int) ∷ []); pre = (record { opened = []; facts = ((Rel relation.Le (Number (pos 1)) (Var 2 sort.Int)) ∷ []); locals = ((name_p, (Var 0 sort.Val)) ∷ []); items = ((Data (Var 2 sort.Int) (Var 0 sort.Val) (Of2 binary.Cons (Var 1 sort.Val) Nil)) ∷ []) }); post = (record { opened = []; facts = ((Rel relation.Eq (Var 3 sort.Val) (Var 1 sort.Val)) ∷ []); locals = []; items = ((Data (Var 2 sort.Int) (Var 0 sort.Val) (Of2 binary.Cons (Var 1 sort.Val) Nil)) ∷ []) }) }) ∷ (record { is_void = true; name = name_f; params = (name_p00 ∷ []); vars = ((name_v0, sort.Val) ∷ (name_o0, sort.Int) ∷ []); pre = (record { opened = []; facts = ((Rel relation.Le (Number (pos 0)) (Var 1 sort.Int)) ∷ (Rel relation.Le (Var 1 sort.Int) (Number (pos 20))) ∷ []); locals = ((name_p00, (Var 0 sort.Val)) ∷ []); items = ((Data (Number (pos 64)) (Global name_g) (Of2 binary.Cons (Of unary.Vi (Number (pos 3))) Nil)) ∷ (Data (Number (pos 64)) (Global name_x) (Of2 binary.Cons (Of unary.Vi (Number (pos 3))) Nil)) ∷ (Data (Number (pos 64)) (Var 0 sort.Val) (Of2 binary.Cons (Of unary.Vi (Var 1 sort.Int)) Nil)) ∷ []) }); post = (record { opened = (sort.List ∷ sort.List ∷ []); facts = ([]); locals = []; items = ((Data (Number (pos 64)) (Global name_x) (Var 3 sort.List)) ∷ (Data (Number (pos 64)) (Var 0 sort.Val) (Var 4 sort.List)) ∷ (Data (Number (pos 64)) (Global name_g) (Var 3 sort.List)) ∷ []) }) }) ∷ (record { is_void = false; name = name_main; params = ([]); vars = []; pre = (record { opened = []; facts = ([]); locals = []; items = ((Data (Number (pos 64)) (Global name_g) (Of2 binary.Cons (Of unary.Vi (Number (pos 3))) Nil)) ∷ (Data (Number (pos 64)) (Global name_x) (Of2 binary.Cons (Of unary.Vi (Number (pos 3))) Nil)) ∷ []) }); post = (record { opened = []; facts = ((Rel relation.Eq (Var 0 sort.Val) (Of unary.Vi (Number (pos 0)))) ∷ []); locals = []; items = ((Data (Number (pos 64)) (Global name_g) (Of2 binary.Cons (Of unary.Vi (Number (pos 3))) Nil)) ∷ (Data (Number (pos 64)) (Global name_x) (Of2 binary.Cons (Of unary.Vi (Number (pos 3))) Nil)) ∷ []) }) }) ∷ []) }) (record { is_void = true; name = name_f; params = (name_p00 ∷ []); vars = ((name_v0, sort.Val) ∷ (name_o0, sort.Int) ∷ []); pre = (record { opened = []; facts = ((Rel relation.Le (Number (pos 0)) (Var 1 sort.Int)) ∷ (Rel relation.Le (Var 1 sort.Int) (Number (pos 20))) ∷ []); locals = ((name_p00, (Var 0 sort.Val)) ∷ []); items = ((Data (Number (pos 64)) (Global name_g) (Of2 binary.Cons (Of unary.Vi (Number (pos 3))) Nil)) ∷ (Data (Number (pos 64)) (Global name_x) (Of2 binary.Cons (Of unary.Vi (Number (pos 3))) Nil)) ∷ (Data (Number (pos 64)) (Var 0 sort.Val) (Of2 binary.Cons (Of unary.Vi (Var 1 sort.Int)) Nil)) ∷ []) }); post = (record { opened = (sort.List ∷ sort.List ∷ []); facts = ([]); locals = []; items = ((Data (Number (pos 64)) (Global name_x) (Var 3 sort.List)) ∷ (Data (Number (pos 64)) (Var 0 sort.Val) (Var 4 sort.List)) ∷ (Data (Number (pos 64)) (Global name_g) (Var 3 sort.List)) ∷ []) }) }) (record { temps = (name_p00 ∷ name_s ∷ name_t ∷ name_i ∷ name_x1 ∷ name_d0 ∷ name_p1 ∷ name_q1 ∷ []); body = (c.Then (c.Set 1 (c.Const 0)) (c.Then (c.Set 2 (c.Const 1)) (c.Then (c.Call (Some 1) name_get ((c.Address (root.Global name_g 1) c.Here) ∷ [])) (c.Then (c.Set 1 (c.Binary two.Add kind.Signed (c.Const 3) (c.Const 1))) (c.Then (c.If (c.Nonzero kind.Signed (c.Binary two.Ne kind.Signed (c.Temp 2) (c.Const 5))) c.End (c.Then (c.Set 1 (c.Const 3)) c.End)) (c.Then (c.Set 4 (c.Binary two.Add kind.Unsigned (c.Const 4294967295) (c.Const 1))) (c.Then (c.Set 1 (c.Binary two.Sub kind.Signed (c.Const 2) (c.Const 1))) (c.Then (c.Load 1 (root.Temp 0) c.Here) (c.Then (c.Return None) c.End))))))))) }) (s.Then 1 (s.Set ([]) ([])) s.NoBlock (s.Then 2 (s.Set ([]) ([])) s.NoBlock (s.Then 3 (s.Call ((Global name_g) ∷ (Of unary.Vi (Number (pos 3))) ∷ (Number (pos 64)) ∷ []) ([]) ([]) (name_k1 ∷ [])) s.NoBlock (s.Then 4 (s.Set ([]) ([])) s.NoBlock (s.Then 5 (s.Set ([]) ([])) s.NoBlock (s.Then 6 (s.If ([]) ([]) ([]) ([])) (s.WithBlock (s.Then 7 (s.Set ([]) ([])) s.NoBlock (s.Then 8 (s.Set ([]) ([])) s.NoBlock (s.Then 9 (s.Load 1 ([]) ([])) s.NoBlock (s.Then 10 (s.Return ((Of2 binary.Cons (Of unary.Vi (Number (pos 31))) Nil) ∷ (Of2 binary.Cons (Of unary.Vi (Named name_o0)) Nil) ∷ []) ([]) ([])) s.NoBlock s.End)))) (s.WithBlock (s.Then 11 (s.Absurd ([])) s.NoBlock s.End) s.NoBlock)) s.End)))))) ≡ (RefusedAt 5 2 1)
unfolding computing
random_423 = refl

random_424 : body_verdict (record { predicates = ([]); specs = ((record { is_void = false; name = name_get; params = (name_p ∷ []); vars = ((name_v, sort.Val) ∷ (name_w, sort.Val) ∷ (name_s, sort.Int) ∷ []); pre = (record { opened = []; facts = ((Rel relation.Le (Number (pos 1)) (Var 2 sort.Int)) ∷ []); locals = ((name_p, (Var 0 sort.Val)) ∷ []); items = ((Data (Var 2 sort.Int) (Var 0 sort.Val) (Of2 binary.Cons (Var 1 sort.Val) Nil)) ∷ []) }); post = (record { opened = []; facts = ((Rel relation.Eq (Var 3 sort.Val) (Var 1 sort.Val)) ∷ []); locals = []; items = ((Data (Var 2 sort.Int) (Var 0 sort.Val) (Of2 binary.Cons (Var 1 sort.Val) Nil)) ∷ []) }) }) ∷ (record { is_void = true; name = name_f; params = (name_p00 ∷ []); vars = ((name_v0, sort.Val) ∷ (name_o0, sort.Int) ∷ []); pre = (record { opened = []; facts = ((Rel relation.Le (Number (pos 0)) (Var 1 sort.Int)) ∷ (Rel relation.Le (Var 1 sort.Int) (Number (pos 20))) ∷ []); locals = ((name_p00, (Var 0 sort.Val)) ∷ []); items = ((Data (Number (pos 64)) (Global name_g) (Of2 binary.Cons (Of unary.Vi (Number (pos 3))) Nil)) ∷ (Data (Number (pos 64)) (Global name_x) (Of2 binary.Cons (Of unary.Vi (Number (pos 3))) Nil)) ∷ (Data (Number (pos 64)) (Var 0 sort.Val) (Of2 binary.Cons (Of unary.Vi (Var 1 sort.Int)) Nil)) ∷ []) }); post = (record { opened = (sort.List ∷ sort.List ∷ []); facts = ([]); locals = []; items = ((Data (Number (pos 64)) (Global name_x) (Var 3 sort.List)) ∷ (Data (Number (pos 64)) (Var 0 sort.Val) (Var 4 sort.List)) ∷ (Data (Number (pos 64)) (Global name_g) (Var 3 sort.List)) ∷ []) }) }) ∷ (record { is_void = false; name = name_main; params = ([]); vars = []; pre = (record { opened = []; facts = ([]); locals = []; items = ((Data (Number (pos 64)) (Global name_g) (Of2 binary.Cons (Of unary.Vi (Number (pos 3))) Nil)) ∷ (Data (Number (pos 64)) (Global name_x) (Of2 binary.Cons (Of unary.Vi (Number (pos 3))) Nil)) ∷ []) }); post = (record { opened = []; facts = ((Rel relation.Eq (Var 0 sort.Val) (Of unary.Vi (Number (pos 0)))) ∷ []); locals = []; items = ((Data (Number (pos 64)) (Global name_g) (Of2 binary.Cons (Of unary.Vi (Number (pos 3))) Nil)) ∷ (Data (Number (pos 64)) (Global name_x) (Of2 binary.Cons (Of unary.Vi (Number (pos 3))) Nil)) ∷ []) }) }) ∷ []) }) (record { is_void = true; name = name_f; params = (name_p00 ∷ []); vars = ((name_v0, sort.Val) ∷ (name_o0, sort.Int) ∷ []); pre = (record { opened = []; facts = ((Rel relation.Le (Number (pos 0)) (Var 1 sort.Int)) ∷ (Rel relation.Le (Var 1 sort.Int) (Number (pos 20))) ∷ []); locals = ((name_p00, (Var 0 sort.Val)) ∷ []); items = ((Data (Number (pos 64)) (Global name_g) (Of2 binary.Cons (Of unary.Vi (Number (pos 3))) Nil)) ∷ (Data (Number (pos 64)) (Global name_x) (Of2 binary.Cons (Of unary.Vi (Number (pos 3))) Nil)) ∷ (Data (Number (pos 64)) (Var 0 sort.Val) (Of2 binary.Cons (Of unary.Vi (Var 1 sort.Int)) Nil)) ∷ []) }); post = (record { opened = (sort.List ∷ sort.List ∷ []); facts = ([]); locals = []; items = ((Data (Number (pos 64)) (Global name_x) (Var 3 sort.List)) ∷ (Data (Number (pos 64)) (Var 0 sort.Val) (Var 4 sort.List)) ∷ (Data (Number (pos 64)) (Global name_g) (Var 3 sort.List)) ∷ []) }) }) (record { temps = (name_p00 ∷ name_s ∷ name_t ∷ name_i ∷ name_x1 ∷ name_d0 ∷ name_p1 ∷ name_q1 ∷ []); body = (c.Then (c.Set 1 (c.Const 0)) (c.Then (c.Set 2 (c.Const 1)) (c.Then (c.Call (Some 1) name_get ((c.Address (root.Global name_g 1) c.Here) ∷ [])) (c.Then (c.Set 1 (c.Binary two.Add kind.Signed (c.Const 3) (c.Const 1))) (c.Then (c.If (c.Nonzero kind.Signed (c.Binary two.Ne kind.Signed (c.Temp 2) (c.Const 5))) c.End (c.Then (c.Set 1 (c.Const 3)) c.End)) (c.Then (c.Set 4 (c.Binary two.Add kind.Unsigned (c.Const 4294967295) (c.Const 1))) (c.Then (c.Set 1 (c.Binary two.Sub kind.Signed (c.Const 2) (c.Const 1))) (c.Then (c.Load 1 (root.Temp 0) c.Here) (c.Then (c.Return None) c.End))))))))) }) (s.Then 1 (s.Set ([]) ([])) s.NoBlock (s.Then 2 (s.Set ([]) ([])) s.NoBlock (s.Then 3 (s.Call ((Global name_g) ∷ (Of unary.Vi (Number (pos 3))) ∷ (Number (pos 64)) ∷ []) ([]) ([]) (name_k1 ∷ [])) s.NoBlock (s.Then 4 (s.Set ([]) ([])) s.NoBlock (s.Then 5 (s.If ([]) ([]) ([]) ([])) (s.WithBlock (s.Then 6 (s.Set ([]) ([])) s.NoBlock (s.Then 7 (s.Set ([]) ([])) s.NoBlock (s.Then 8 (s.Load 1 ([]) ([])) s.NoBlock (s.Then 9 (s.Return ((Of2 binary.Cons (Of unary.Vi (Number (pos 3))) Nil) ∷ (Of2 binary.Cons (Of unary.Vi (Named name_o0)) Nil) ∷ []) ([]) ([])) s.NoBlock s.End)))) (s.WithBlock (s.Then 10 (s.Rewrite true 0 (occurrence.Item 0)) s.NoBlock (s.Then 11 (s.Absurd ([])) s.NoBlock s.End)) s.NoBlock)) s.End))))) ≡ (RefusedAt 10 28 1)
unfolding computing
random_424 = refl

random_425 : body_verdict (record { predicates = ([]); specs = ((record { is_void = false; name = name_get; params = (name_p ∷ []); vars = ((name_v, sort.Val) ∷ (name_w, sort.Val) ∷ (name_s, sort.Int) ∷ []); pre = (record { opened = []; facts = ((Rel relation.Le (Number (pos 1)) (Var 2 sort.Int)) ∷ []); locals = ((name_p, (Var 0 sort.Val)) ∷ []); items = ((Data (Var 2 sort.Int) (Var 0 sort.Val) (Of2 binary.Cons (Var 1 sort.Val) Nil)) ∷ []) }); post = (record { opened = []; facts = ((Rel relation.Eq (Var 3 sort.Val) (Var 1 sort.Val)) ∷ []); locals = []; items = ((Data (Var 2 sort.Int) (Var 0 sort.Val) (Of2 binary.Cons (Var 1 sort.Val) Nil)) ∷ []) }) }) ∷ (record { is_void = true; name = name_f; params = (name_p00 ∷ []); vars = ((name_v0, sort.Val) ∷ (name_o0, sort.Int) ∷ []); pre = (record { opened = []; facts = ((Rel relation.Le (Number (pos 0)) (Var 1 sort.Int)) ∷ (Rel relation.Le (Var 1 sort.Int) (Number (pos 20))) ∷ []); locals = ((name_p00, (Var 0 sort.Val)) ∷ []); items = ((Data (Number (pos 64)) (Global name_g) (Of2 binary.Cons (Of unary.Vi (Number (pos 3))) Nil)) ∷ (Data (Number (pos 64)) (Global name_x) (Of2 binary.Cons (Of unary.Vi (Number (pos 3))) Nil)) ∷ (Data (Number (pos 64)) (Var 0 sort.Val) (Of2 binary.Cons (Of unary.Vi (Var 1 sort.Int)) Nil)) ∷ []) }); post = (record { opened = (sort.List ∷ sort.List ∷ []); facts = ([]); locals = []; items = ((Data (Number (pos 64)) (Global name_x) (Var 3 sort.List)) ∷ (Data (Number (pos 64)) (Var 0 sort.Val) (Var 4 sort.List)) ∷ (Data (Number (pos 64)) (Global name_g) (Var 3 sort.List)) ∷ []) }) }) ∷ (record { is_void = false; name = name_main; params = ([]); vars = []; pre = (record { opened = []; facts = ([]); locals = []; items = ((Data (Number (pos 64)) (Global name_g) (Of2 binary.Cons (Of unary.Vi (Number (pos 3))) Nil)) ∷ (Data (Number (pos 64)) (Global name_x) (Of2 binary.Cons (Of unary.Vi (Number (pos 3))) Nil)) ∷ []) }); post = (record { opened = []; facts = ((Rel relation.Eq (Var 0 sort.Val) (Of unary.Vi (Number (pos 0)))) ∷ []); locals = []; items = ((Data (Number (pos 64)) (Global name_g) (Of2 binary.Cons (Of unary.Vi (Number (pos 3))) Nil)) ∷ (Data (Number (pos 64)) (Global name_x) (Of2 binary.Cons (Of unary.Vi (Number (pos 3))) Nil)) ∷ []) }) }) ∷ []) }) (record { is_void = true; name = name_f; params = (name_p00 ∷ []); vars = ((name_v0, sort.Val) ∷ (name_o0, sort.Int) ∷ []); pre = (record { opened = []; facts = ((Rel relation.Le (Number (pos 0)) (Var 1 sort.Int)) ∷ (Rel relation.Le (Var 1 sort.Int) (Number (pos 20))) ∷ []); locals = ((name_p00, (Var 0 sort.Val)) ∷ []); items = ((Data (Number (pos 64)) (Global name_g) (Of2 binary.Cons (Of unary.Vi (Number (pos 3))) Nil)) ∷ (Data (Number (pos 64)) (Global name_x) (Of2 binary.Cons (Of unary.Vi (Number (pos 3))) Nil)) ∷ (Data (Number (pos 64)) (Var 0 sort.Val) (Of2 binary.Cons (Of unary.Vi (Var 1 sort.Int)) Nil)) ∷ []) }); post = (record { opened = (sort.List ∷ sort.List ∷ []); facts = ([]); locals = []; items = ((Data (Number (pos 64)) (Global name_x) (Var 3 sort.List)) ∷ (Data (Number (pos 64)) (Var 0 sort.Val) (Var 4 sort.List)) ∷ (Data (Number (pos 64)) (Global name_g) (Var 3 sort.List)) ∷ []) }) }) (record { temps = (name_p00 ∷ name_s ∷ name_t ∷ name_i ∷ name_x1 ∷ name_d0 ∷ name_p1 ∷ name_q1 ∷ []); body = (c.Then (c.Set 1 (c.Const 0)) (c.Then (c.Set 2 (c.Const 1)) (c.Then (c.Call (Some 1) name_get ((c.Address (root.Global name_g 1) c.Here) ∷ [])) (c.Then (c.Set 1 (c.Binary two.Add kind.Signed (c.Const 3) (c.Const 1))) (c.Then (c.If (c.Nonzero kind.Signed (c.Binary two.Ne kind.Signed (c.Temp 2) (c.Const 5))) c.End (c.Then (c.Set 1 (c.Const 3)) c.End)) (c.Then (c.Set 4 (c.Binary two.Add kind.Unsigned (c.Const 4294967295) (c.Const 1))) (c.Then (c.Set 1 (c.Binary two.Sub kind.Signed (c.Const 2) (c.Const 1))) (c.Then (c.Load 1 (root.Temp 0) c.Here) (c.Then (c.Return None) c.End))))))))) }) (s.Then 1 (s.Set ([]) ([])) s.NoBlock (s.Then 2 (s.Set ([]) ([])) s.NoBlock (s.Then 3 (s.Call ((Global name_g) ∷ (Of unary.Vi (Number (pos 3))) ∷ (Number (pos 64)) ∷ []) ([]) ([]) (name_k1 ∷ [])) s.NoBlock (s.Then 4 (s.Set ([]) ([])) s.NoBlock (s.Then 5 (s.If ([]) ([]) ([]) ([])) (s.WithBlock (s.Then 6 (s.Set ([]) ([])) s.NoBlock (s.Then 7 (s.Set ([]) ([])) s.NoBlock (s.Then 8 (s.Set ([]) ([])) s.NoBlock (s.Then 9 (s.Load 1 ([]) ([])) s.NoBlock (s.Then 10 (s.Return ((Of2 binary.Cons (Of unary.Vi (Number (pos 3))) Nil) ∷ (Of2 binary.Cons (Of unary.Vi (Named name_o0)) Nil) ∷ []) ([]) ([])) s.NoBlock s.End))))) (s.WithBlock (s.Then 11 (s.Absurd ([])) s.NoBlock s.End) s.NoBlock)) s.End))))) ≡ (RefusedAt 8 2 1)
unfolding computing
random_425 = refl

random_426 : body_verdict (record { predicates = ([]); specs = ((record { is_void = false; name = name_main; params = ([]); vars = []; pre = (record { opened = []; facts = ([]); locals = []; items = ((Data (Number (pos 64)) (Global name_x) (Of2 binary.Cons (Of unary.Vi (Number (pos 3))) Nil)) ∷ (Data (Number (pos 64)) (Global name_g) (Of2 binary.Cons (Of unary.Vi (Number (pos 3))) Nil)) ∷ (Data (Number (pos 64)) (Global name_x) (Of2 binary.Cons (Of unary.Vi (Number (pos 1))) (Of2 binary.Cons (Of unary.Vi (Number (pos 2))) (Of2 binary.Cons (Of unary.Vi (Number (pos 0))) (Of2 binary.Cons (Of unary.Vi (Number (pos 0))) Nil))))) ∷ []) }); post = (record { opened = []; facts = ((Rel relation.Eq (Var 0 sort.Val) (Of unary.Vi (Number (pos 0)))) ∷ []); locals = []; items = ((Data (Number (pos 64)) (Global name_x) (Of2 binary.Cons (Of unary.Vi (Number (pos 3))) Nil)) ∷ (Data (Number (pos 64)) (Global name_g) (Of2 binary.Cons (Of unary.Vi (Number (pos 3))) Nil)) ∷ (Data (Number (pos 64)) (Global name_arr) (Of2 binary.Cons (Of unary.Vi (Number (pos 1))) (Of2 binary.Cons (Of unary.Vi (Number (pos 2))) (Of2 binary.Cons (Of unary.Vi (Number (pos 0))) (Of2 binary.Cons (Of unary.Vi (Number (pos 0))) Nil))))) ∷ []) }) }) ∷ []) }) (record { is_void = false; name = name_main; params = ([]); vars = []; pre = (record { opened = []; facts = ([]); locals = []; items = ((Data (Number (pos 64)) (Global name_x) (Of2 binary.Cons (Of unary.Vi (Number (pos 3))) Nil)) ∷ (Data (Number (pos 64)) (Global name_g) (Of2 binary.Cons (Of unary.Vi (Number (pos 3))) Nil)) ∷ (Data (Number (pos 64)) (Global name_x) (Of2 binary.Cons (Of unary.Vi (Number (pos 1))) (Of2 binary.Cons (Of unary.Vi (Number (pos 2))) (Of2 binary.Cons (Of unary.Vi (Number (pos 0))) (Of2 binary.Cons (Of unary.Vi (Number (pos 0))) Nil))))) ∷ []) }); post = (record { opened = []; facts = ((Rel relation.Eq (Var 0 sort.Val) (Of unary.Vi (Number (pos 0)))) ∷ []); locals = []; items = ((Data (Number (pos 64)) (Global name_x) (Of2 binary.Cons (Of unary.Vi (Number (pos 3))) Nil)) ∷ (Data (Number (pos 64)) (Global name_g) (Of2 binary.Cons (Of unary.Vi (Number (pos 3))) Nil)) ∷ (Data (Number (pos 64)) (Global name_arr) (Of2 binary.Cons (Of unary.Vi (Number (pos 1))) (Of2 binary.Cons (Of unary.Vi (Number (pos 2))) (Of2 binary.Cons (Of unary.Vi (Number (pos 0))) (Of2 binary.Cons (Of unary.Vi (Number (pos 0))) Nil))))) ∷ []) }) }) (record { temps = (name_s ∷ name_t ∷ name_i ∷ name_x1 ∷ name_d0 ∷ name_p1 ∷ name_q1 ∷ []); body = (c.Then (c.Set 0 (c.Const 2)) (c.Then (c.Set 1 (c.Const 1)) (c.Then (c.Set 0 (c.Binary two.Add kind.Signed (c.Const 3) (c.Const 2))) (c.Then (c.Set 0 (c.Binary two.Add kind.Signed (c.Temp 1) (c.Temp 1))) (c.Then (c.Return (Some (c.Const 0))) c.End))))) }) (s.Then 1 (s.Set ([]) ([])) s.NoBlock (s.Then 2 (s.Bounds 0 None ([])) s.NoBlock (s.Then 3 (s.Set ([]) ([])) s.NoBlock (s.Then 4 (s.Set ([]) ([])) s.NoBlock (s.Then 5 (s.Set ([]) ([])) s.NoBlock (s.Then 6 (s.Law name_sub_all ((Of2 binary.Cons (Of unary.Vi (Number (pos 1))) (Of2 binary.Cons (Of unary.Vi (Number (pos 2))) (Of2 binary.Cons (Of unary.Vi (Number (pos 0))) (Of2 binary.Cons (Of unary.Vi (Number (pos 0))) Nil)))) ∷ []) ([])) s.NoBlock (s.Then 7 (s.Return ([]) ([]) ([])) s.NoBlock s.End))))))) ≡ (RefusedAt 7 9 5)
unfolding computing
random_426 = refl

random_427 : body_verdict (record { predicates = ([]); specs = ((record { is_void = false; name = name_main; params = ([]); vars = []; pre = (record { opened = []; facts = ([]); locals = []; items = ((Data (Number (pos 64)) (Global name_x) (Of2 binary.Cons (Of unary.Vi (Number (pos 3))) Nil)) ∷ (Data (Number (pos 64)) (Global name_g) (Of2 binary.Cons (Of unary.Vi (Number (pos 3))) Nil)) ∷ (Data (Number (pos 64)) (Global name_arr) (Of2 binary.Cons (Of unary.Vi (Number (pos 1))) (Of2 binary.Cons (Of unary.Vi (Number (pos 2))) (Of2 binary.Cons (Of unary.Vi (Number (pos 0))) (Of2 binary.Cons (Of unary.Vi (Number (pos 0))) Nil))))) ∷ []) }); post = (record { opened = []; facts = ((Rel relation.Eq (Var 0 sort.Val) (Of unary.Vi (Number (pos 0)))) ∷ []); locals = []; items = ((Data (Number (pos 64)) (Global name_x) (Of2 binary.Cons (Of unary.Vi (Number (pos 3))) Nil)) ∷ (Data (Number (pos 64)) (Global name_g) (Of2 binary.Cons (Of unary.Vi (Number (pos 3))) Nil)) ∷ (Data (Number (pos 64)) (Global name_arr) (Of2 binary.Cons (Of unary.Vi (Number (pos 1))) (Of2 binary.Cons (Of unary.Vi (Number (pos 2))) (Of2 binary.Cons (Of unary.Vi (Number (pos 0))) (Of2 binary.Cons (Of unary.Vi (Number (pos 0))) Nil))))) ∷ []) }) }) ∷ []) }) (record { is_void = false; name = name_main; params = ([]); vars = []; pre = (record { opened = []; facts = ([]); locals = []; items = ((Data (Number (pos 64)) (Global name_x) (Of2 binary.Cons (Of unary.Vi (Number (pos 3))) Nil)) ∷ (Data (Number (pos 64)) (Global name_g) (Of2 binary.Cons (Of unary.Vi (Number (pos 3))) Nil)) ∷ (Data (Number (pos 64)) (Global name_arr) (Of2 binary.Cons (Of unary.Vi (Number (pos 1))) (Of2 binary.Cons (Of unary.Vi (Number (pos 2))) (Of2 binary.Cons (Of unary.Vi (Number (pos 0))) (Of2 binary.Cons (Of unary.Vi (Number (pos 0))) Nil))))) ∷ []) }); post = (record { opened = []; facts = ((Rel relation.Eq (Var 0 sort.Val) (Of unary.Vi (Number (pos 0)))) ∷ []); locals = []; items = ((Data (Number (pos 64)) (Global name_x) (Of2 binary.Cons (Of unary.Vi (Number (pos 3))) Nil)) ∷ (Data (Number (pos 64)) (Global name_g) (Of2 binary.Cons (Of unary.Vi (Number (pos 3))) Nil)) ∷ (Data (Number (pos 64)) (Global name_arr) (Of2 binary.Cons (Of unary.Vi (Number (pos 1))) (Of2 binary.Cons (Of unary.Vi (Number (pos 2))) (Of2 binary.Cons (Of unary.Vi (Number (pos 0))) (Of2 binary.Cons (Of unary.Vi (Number (pos 0))) Nil))))) ∷ []) }) }) (record { temps = (name_s ∷ name_t ∷ name_i ∷ name_x1 ∷ name_d0 ∷ name_p1 ∷ name_q1 ∷ []); body = (c.Then (c.Set 0 (c.Const 2)) (c.Then (c.Set 1 (c.Const 1)) (c.Then (c.Set 0 (c.Binary two.Add kind.Signed (c.Const 3) (c.Const 2))) (c.Then (c.Set 0 (c.Binary two.Add kind.Signed (c.Temp 1) (c.Temp 1))) (c.Then (c.Return (Some (c.Const 0))) c.End))))) }) (s.Then 1 (s.Set ([]) ([])) s.NoBlock (s.Then 2 (s.Bounds 0 None ([])) s.NoBlock (s.Then 3 (s.Set ([]) ([])) s.NoBlock (s.Then 4 (s.Set ([]) ([])) s.NoBlock (s.Then 5 (s.Set ([]) ([])) s.NoBlock (s.Then 6 (s.Law name_sub_all ((Of2 binary.Cons (Of unary.Vi (Number (pos 1))) (Of2 binary.Cons (Of unary.Vi (Number (pos 2))) (Of2 binary.Cons (Of unary.Vi (Number (pos 0))) (Of2 binary.Cons (Of unary.Vi (Number (pos 0))) Nil)))) ∷ []) ([])) s.NoBlock s.End)))))) ≡ (RefusedAt 7 0 10)
unfolding computing
random_427 = refl

random_428 : body_verdict (record { predicates = ([]); specs = ((record { is_void = false; name = name_main; params = ([]); vars = []; pre = (record { opened = []; facts = ([]); locals = []; items = ((Data (Number (pos 64)) (Global name_x) (Of2 binary.Cons (Of unary.Vi (Number (pos 3))) Nil)) ∷ (Data (Number (pos 64)) (Global name_g) (Of2 binary.Cons (Of unary.Vi (Number (pos 3))) Nil)) ∷ (Data (Number (pos 64)) (Global name_arr) (Of2 binary.Cons (Of unary.Vi (Number (pos 1))) (Of2 binary.Cons (Of unary.Vi (Number (pos 2))) (Of2 binary.Cons (Of unary.Vi (Number (pos 0))) (Of2 binary.Cons (Of unary.Vi (Number (pos 0))) Nil))))) ∷ []) }); post = (record { opened = []; facts = ((Rel relation.Eq (Var 0 sort.Val) (Of unary.Vi (Number (pos 0)))) ∷ []); locals = []; items = ((Data (Number (pos 64)) (Global name_x) (Of2 binary.Cons (Of unary.Vi (Number (pos 3))) Nil)) ∷ (Data (Number (pos 64)) (Global name_g) (Of2 binary.Cons (Of unary.Vi (Number (pos 3))) Nil)) ∷ (Data (Number (pos 64)) (Global name_arr) (Of2 binary.Cons (Of unary.Vi (Number (pos 1))) (Of2 binary.Cons (Of unary.Vi (Number (pos 2))) (Of2 binary.Cons (Of unary.Vi (Number (pos 0))) (Of2 binary.Cons (Of unary.Vi (Number (pos 0))) Nil))))) ∷ []) }) }) ∷ []) }) (record { is_void = false; name = name_main; params = ([]); vars = []; pre = (record { opened = []; facts = ([]); locals = []; items = ((Data (Number (pos 64)) (Global name_x) (Of2 binary.Cons (Of unary.Vi (Number (pos 3))) Nil)) ∷ (Data (Number (pos 64)) (Global name_g) (Of2 binary.Cons (Of unary.Vi (Number (pos 3))) Nil)) ∷ (Data (Number (pos 64)) (Global name_arr) (Of2 binary.Cons (Of unary.Vi (Number (pos 1))) (Of2 binary.Cons (Of unary.Vi (Number (pos 2))) (Of2 binary.Cons (Of unary.Vi (Number (pos 0))) (Of2 binary.Cons (Of unary.Vi (Number (pos 0))) Nil))))) ∷ []) }); post = (record { opened = []; facts = ((Rel relation.Eq (Var 0 sort.Val) (Of unary.Vi (Number (pos 0)))) ∷ []); locals = []; items = ((Data (Number (pos 64)) (Global name_x) (Of2 binary.Cons (Of unary.Vi (Number (pos 3))) Nil)) ∷ (Data (Number (pos 64)) (Global name_g) (Of2 binary.Cons (Of unary.Vi (Number (pos 3))) Nil)) ∷ (Data (Number (pos 64)) (Global name_arr) (Of2 binary.Cons (Of unary.Vi (Number (pos 1))) (Of2 binary.Cons (Of unary.Vi (Number (pos 2))) (Of2 binary.Cons (Of unary.Vi (Number (pos 0))) (Of2 binary.Cons (Of unary.Vi (Number (pos 0))) Nil))))) ∷ []) }) }) (record { temps = (name_s ∷ name_t ∷ name_i ∷ name_x1 ∷ name_d0 ∷ name_p1 ∷ name_q1 ∷ []); body = (c.Then (c.Set 0 (c.Const 2)) (c.Then (c.Set 1 (c.Const 1)) (c.Then (c.Set 0 (c.Binary two.Add kind.Signed (c.Const 3) (c.Const 2))) (c.Then (c.Set 0 (c.Binary two.Add kind.Signed (c.Temp 1) (c.Temp 1))) (c.Then (c.Return (Some (c.Const 0))) c.End))))) }) (s.Then 1 (s.Set ([]) ([])) s.NoBlock (s.Then 2 (s.Bounds 0 None ([])) s.NoBlock (s.Then 3 (s.Set ([]) ([])) s.NoBlock (s.Then 4 (s.Set ([]) ([])) s.NoBlock (s.Then 5 (s.Set ([]) ([])) s.NoBlock (s.Then 6 (s.Set ([]) ([])) s.NoBlock (s.Then 7 (s.Law name_sub_all ((Of2 binary.Cons (Of unary.Vi (Number (pos 1))) (Of2 binary.Cons (Of unary.Vi (Number (pos 2))) (Of2 binary.Cons (Of unary.Vi (Number (pos 0))) (Of2 binary.Cons (Of unary.Vi (Number (pos 0))) Nil)))) ∷ []) ([])) s.NoBlock (s.Then 8 (s.Return ([]) ([]) ([])) s.NoBlock s.End)))))))) ≡ (RefusedAt 6 2 1)
unfolding computing
random_428 = refl

random_429 : body_verdict (record { predicates = ([]); specs = ((record { is_void = false; name = name_main; params = ([]); vars = []; pre = (record { opened = []; facts = ([]); locals = []; items = ((Data (Number (pos 64)) (Global name_x) (Of2 binary.Cons (Of unary.Vi (Number (pos 3))) Nil)) ∷ (Data (Number (pos 64)) (Global name_g) (Of2 binary.Cons (Of unary.Vi (Number (pos 3))) Nil)) ∷ (Data (Number (pos 64)) (Global name_arr) (Of2 binary.Cons (Of unary.Vi (Number (pos 1))) (Of2 binary.Cons (Of unary.Vi (Number (pos 2147483647))) (Of2 binary.Cons (Of unary.Vi (Number (pos 0))) (Of2 binary.Cons (Of unary.Vi (Number (pos 0))) Nil))))) ∷ []) }); post = (record { opened = []; facts = ((Rel relation.Eq (Var 0 sort.Val) (Of unary.Vi (Number (pos 0)))) ∷ []); locals = []; items = ((Data (Number (pos 64)) (Global name_x) (Of2 binary.Cons (Of unary.Vi (Number (pos 3))) Nil)) ∷ (Data (Number (pos 64)) (Global name_g) (Of2 binary.Cons (Of unary.Vi (Number (pos 3))) Nil)) ∷ (Data (Number (pos 64)) (Global name_arr) (Of2 binary.Cons (Of unary.Vi (Number (pos 1))) (Of2 binary.Cons (Of unary.Vi (Number (pos 2))) (Of2 binary.Cons (Of unary.Vi (Number (pos 0))) (Of2 binary.Cons (Of unary.Vi (Number (pos 0))) Nil))))) ∷ []) }) }) ∷ []) }) (record { is_void = false; name = name_main; params = ([]); vars = []; pre = (record { opened = []; facts = ([]); locals = []; items = ((Data (Number (pos 64)) (Global name_x) (Of2 binary.Cons (Of unary.Vi (Number (pos 3))) Nil)) ∷ (Data (Number (pos 64)) (Global name_g) (Of2 binary.Cons (Of unary.Vi (Number (pos 3))) Nil)) ∷ (Data (Number (pos 64)) (Global name_arr) (Of2 binary.Cons (Of unary.Vi (Number (pos 1))) (Of2 binary.Cons (Of unary.Vi (Number (pos 2147483647))) (Of2 binary.Cons (Of unary.Vi (Number (pos 0))) (Of2 binary.Cons (Of unary.Vi (Number (pos 0))) Nil))))) ∷ []) }); post = (record { opened = []; facts = ((Rel relation.Eq (Var 0 sort.Val) (Of unary.Vi (Number (pos 0)))) ∷ []); locals = []; items = ((Data (Number (pos 64)) (Global name_x) (Of2 binary.Cons (Of unary.Vi (Number (pos 3))) Nil)) ∷ (Data (Number (pos 64)) (Global name_g) (Of2 binary.Cons (Of unary.Vi (Number (pos 3))) Nil)) ∷ (Data (Number (pos 64)) (Global name_arr) (Of2 binary.Cons (Of unary.Vi (Number (pos 1))) (Of2 binary.Cons (Of unary.Vi (Number (pos 2))) (Of2 binary.Cons (Of unary.Vi (Number (pos 0))) (Of2 binary.Cons (Of unary.Vi (Number (pos 0))) Nil))))) ∷ []) }) }) (record { temps = (name_s ∷ name_t ∷ name_i ∷ name_x1 ∷ name_d0 ∷ name_p1 ∷ name_q1 ∷ []); body = (c.Then (c.Set 0 (c.Const 2)) (c.Then (c.Set 1 (c.Const 1)) (c.Then (c.Set 0 (c.Binary two.Add kind.Signed (c.Const 3) (c.Const 2))) (c.Then (c.Set 0 (c.Binary two.Add kind.Signed (c.Temp 1) (c.Temp 1))) (c.Then (c.Return (Some (c.Const 0))) c.End))))) }) (s.Then 1 (s.Set ([]) ([])) s.NoBlock (s.Then 2 (s.Bounds 0 None ([])) s.NoBlock (s.Then 3 (s.Set ([]) ([])) s.NoBlock (s.Then 4 (s.Set ([]) ([])) s.NoBlock (s.Then 5 (s.Set ([]) ([])) s.NoBlock (s.Then 6 (s.Law name_sub_all ((Of2 binary.Cons (Of unary.Vi (Number (pos 1))) (Of2 binary.Cons (Of unary.Vi (Number (pos 2))) (Of2 binary.Cons (Of unary.Vi (Number (pos 0))) (Of2 binary.Cons (Of unary.Vi (Number (pos 0))) Nil)))) ∷ []) ([])) s.NoBlock (s.Then 7 (s.Return ([]) ([]) ([])) s.NoBlock s.End))))))) ≡ (RefusedAt 7 9 5)
unfolding computing
random_429 = refl

random_430 : body_verdict (record { predicates = ((record { name = name_two; args = (sort.Val ∷ []); cases = ((record { opened = []; facts = ((Rel relation.Eq (Var 0 sort.Val) (Of unary.Vi (Number (pos 0)))) ∷ []); locals = []; items = ([]) }) ∷ (record { opened = (sort.Int ∷ sort.Val ∷ []); facts = ((Rel relation.Ne (Var 0 sort.Val) (Of unary.Vi (Number (pos 0)))) ∷ (Rel relation.Le (Number (pos 0)) (Var 1 sort.Int)) ∷ (Rel relation.Le (Var 1 sort.Int) (Number (pos 9))) ∷ []); locals = []; items = ((Data (Number (pos 64)) (Var 0 sort.Val) (Of2 binary.Cons (Of unary.Vi (Var 1 sort.Int)) (Of2 binary.Cons (Var 2 sort.Val) (Of2 binary.Cons (Of unary.Vi (Number (pos 7))) Nil)))) ∷ []) }) ∷ []) }) ∷ []); specs = ((record { is_void = false; name = name_f; params = (name_s0 ∷ name_s1 ∷ name_r2 ∷ []); vars = ((name_w0, sort.Val) ∷ (name_h0, sort.Int) ∷ (name_q0, sort.Val) ∷ (name_w1, sort.Val) ∷ (name_h1, sort.Int) ∷ (name_q1, sort.Val) ∷ (name_e2, sort.Val) ∷ (name_l2, sort.List) ∷ []); pre = (record { opened = []; facts = ((Rel relation.Le (Number (pos 0)) (Var 1 sort.Int)) ∷ (Rel relation.Le (Var 1 sort.Int) (Number (pos 20))) ∷ (Rel relation.Le (Number (pos 0)) (Var 4 sort.Int)) ∷ (Rel relation.Le (Var 4 sort.Int) (Number (pos 20))) ∷ (Rel relation.Eq (Of unary.Len (Var 7 sort.List)) (Number (pos 1))) ∷ []); locals = ((name_s0, (Var 0 sort.Val)) ∷ (name_s1, (Var 3 sort.Val)) ∷ (name_r2, (Var 6 sort.Val)) ∷ []); items = ((Pred (record { name = name_two; args = ((Var 0 sort.Val) ∷ []) })) ∷ (Data (Number (pos 64)) (Var 3 sort.Val) (Of2 binary.Cons (Of unary.Vi (Var 4 sort.Int)) (Of2 binary.Cons (Var 5 sort.Val) (Of2 binary.Cons (Of unary.Vi (Number (pos 3))) Nil)))) ∷ (Data (Number (pos 64)) (Var 6 sort.Val) (Var 7 sort.List)) ∷ []) }); post = (record { opened = []; facts = ((Rel relation.Eq (Var 8 sort.Val) (Of unary.Vi (Number (pos 0)))) ∷ []); locals = []; items = ((Pred (record { name = name_two; args = ((Var 0 sort.Val) ∷ []) })) ∷ (Data (Number (pos 64)) (Var 3 sort.Val) (Of2 binary.Cons (Of unary.Vi (Var 4 sort.Int)) (Of2 binary.Cons (Var 5 sort.Val) (Of2 binary.Cons (Of unary.Vi (Number (pos 3))) Nil)))) ∷ (Data (Number (pos 64)) (Var 6 sort.Val) (Var 7 sort.List)) ∷ []) }) }) ∷ (record { is_void = false; name = name_main; params = ([]); vars = []; pre = (record { opened = []; facts = ([]); locals = []; items = ([]) }); post = (record { opened = []; facts = ((Rel relation.Eq (Var 0 sort.Val) (Of unary.Vi (Number (pos 0)))) ∷ []); locals = []; items = ([]) }) }) ∷ []) }) (record { is_void = false; name = name_f; params = (name_s0 ∷ name_s1 ∷ name_r2 ∷ []); vars = ((name_w0, sort.Val) ∷ (name_h0, sort.Int) ∷ (name_q0, sort.Val) ∷ (name_w1, sort.Val) ∷ (name_h1, sort.Int) ∷ (name_q1, sort.Val) ∷ (name_e2, sort.Val) ∷ (name_l2, sort.List) ∷ []); pre = (record { opened = []; facts = ((Rel relation.Le (Number (pos 0)) (Var 1 sort.Int)) ∷ (Rel relation.Le (Var 1 sort.Int) (Number (pos 20))) ∷ (Rel relation.Le (Number (pos 0)) (Var 4 sort.Int)) ∷ (Rel relation.Le (Var 4 sort.Int) (Number (pos 20))) ∷ (Rel relation.Eq (Of unary.Len (Var 7 sort.List)) (Number (pos 1))) ∷ []); locals = ((name_s0, (Var 0 sort.Val)) ∷ (name_s1, (Var 3 sort.Val)) ∷ (name_r2, (Var 6 sort.Val)) ∷ []); items = ((Pred (record { name = name_two; args = ((Var 0 sort.Val) ∷ []) })) ∷ (Data (Number (pos 64)) (Var 3 sort.Val) (Of2 binary.Cons (Of unary.Vi (Var 4 sort.Int)) (Of2 binary.Cons (Var 5 sort.Val) (Of2 binary.Cons (Of unary.Vi (Number (pos 3))) Nil)))) ∷ (Data (Number (pos 64)) (Var 6 sort.Val) (Var 7 sort.List)) ∷ []) }); post = (record { opened = []; facts = ((Rel relation.Eq (Var 8 sort.Val) (Of unary.Vi (Number (pos 0)))) ∷ []); locals = []; items = ((Pred (record { name = name_two; args = ((Var 0 sort.Val) ∷ []) })) ∷ (Data (Number (pos 64)) (Var 3 sort.Val) (Of2 binary.Cons (Of unary.Vi (Var 4 sort.Int)) (Of2 binary.Cons (Var 5 sort.Val) (Of2 binary.Cons (Of unary.Vi (Number (pos 3))) Nil)))) ∷ (Data (Number (pos 64)) (Var 6 sort.Val) (Var 7 sort.List)) ∷ []) }) }) (record { temps = (name_s0 ∷ name_s1 ∷ name_r2 ∷ name_s ∷ name_t ∷ name_i ∷ name_x1 ∷ name_d0 ∷ name_p1 ∷ name_q1 ∷ []); body = (c.Then (c.Set 3 (c.Const 3)) (c.Then (c.Set 4 (c.Const 2)) (c.Then (c.Set 3 (c.Binary two.Eq kind.Signed (c.Const 1) (c.Temp 3))) (c.Then (c.Set 4 (c.Binary two.Lt kind.Signed (c.Const 3) (c.Const 3))) (c.Then (c.Return (Some (c.Const 0))) c.End))))) }) (s.Then 1 (s.Rewrite false 4 (occurrence.Local name_s1)) s.NoBlock (s.Then 2 (s.Set ([]) ([])) s.NoBlock (s.Then 3 (s.Set ([]) ([])) s.NoBlock (s.Then 4 (s.Set ([]) ([])) s.NoBlock (s.Then 5 (s.Split (Rel relation.Le (Named name_h1) (Number (pos 2))) ([]) ([])) (s.WithBlock (s.Then 6 (s.Set ([]) ([])) s.NoBlock (s.Then 7 (s.Return ([]) ([]) ([])) s.NoBlock s.End)) (s.WithBlock (s.Then 8 (s.Unfold 0 (([]) ∷ (name_k1 ∷ name_k2 ∷ []) ∷ [])) (s.WithBlock (s.Then 9 (s.Set ([]) ([])) s.NoBlock (s.Then 10 (s.Fold name_two 0 ((Of unary.Vi (Number (pos 0))) ∷ []) ([]) ([])) s.NoBlock (s.Then 11 (s.Return ([]) ([]) ([])) s.NoBlock s.End))) (s.WithBlock (s.Then 12 (s.Set ([]) ([])) s.NoBlock (s.Then 13 (s.Law name_band_hi ((Number (pos 7)) ∷ (Number (pos 7)) ∷ []) ([])) s.NoBlock (s.Then 14 (s.Fold name_two 0 ((Of unary.Vi (Number (pos 0))) ∷ []) ([]) ([])) s.NoBlock (s.Then 15 (s.Return ([]) ([]) ([])) s.NoBlock s.End)))) s.NoBlock)) s.End) s.NoBlock)) s.End))))) ≡ (RefusedAt 11 9 5)
unfolding computing
random_430 = refl

random_431 : body_verdict (record { predicates = ((record { name = name_two; args = (sort.Val ∷ []); cases = ((record { opened = []; facts = ((Rel relation.Eq (Var 0 sort.Val) (Of unary.Vi (Number (pos 0)))) ∷ []); locals = []; items = ([]) }) ∷ (record { opened = (sort.Int ∷ sort.Val ∷ []); facts = ((Rel relation.Ne (Var 0 sort.Val) (Of unary.Vi (Number (pos 0)))) ∷ (Rel relation.Le (Number (pos 0)) (Var 1 sort.Int)) ∷ (Rel relation.Le (Var 1 sort.Int) (Number (pos 9))) ∷ []); locals = []; items = ((Data (Number (pos 64)) (Var 0 sort.Val) (Of2 binary.Cons (Of unary.Vi (Var 1 sort.Int)) (Of2 binary.Cons (Var 2 sort.Val) (Of2 binary.Cons (Of unary.Vi (Number (pos 7))) Nil)))) ∷ []) }) ∷ []) }) ∷ []); specs = ((record { is_void = false; name = name_f; params = (name_s0 ∷ name_s1 ∷ name_r2 ∷ []); vars = ((name_w0, sort.Val) ∷ (name_h0, sort.Int) ∷ (name_q0, sort.Val) ∷ (name_w1, sort.Val) ∷ (name_h1, sort.Int) ∷ (name_q1, sort.Val) ∷ (name_e2, sort.Val) ∷ (name_l2, sort.List) ∷ []); pre = (record { opened = []; facts = ((Rel relation.Le (Number (pos 0)) (Var 1 sort.Int)) ∷ (Rel relation.Le (Var 1 sort.Int) (Number (pos 20))) ∷ (Rel relation.Le (Number (pos 0)) (Var 4 sort.Int)) ∷ (Rel relation.Le (Var 4 sort.Int) (Number (pos 20))) ∷ (Rel relation.Eq (Of unary.Len (Var 7 sort.List)) (Number (pos 1))) ∷ []); locals = ((name_s0, (Var 0 sort.Val)) ∷ (name_s1, (Var 3 sort.Val)) ∷ (name_r2, (Var 6 sort.Val)) ∷ []); items = ((Pred (record { name = name_two; args = ((Var 0 sort.Val) ∷ []) })) ∷ (Data (Number (pos 64)) (Var 3 sort.Val) (Of2 binary.Cons (Of unary.Vi (Var 4 sort.Int)) (Of2 binary.Cons (Var 5 sort.Val) (Of2 binary.Cons (Of unary.Vi (Number (pos 3))) Nil)))) ∷ (Data (Number (pos 64)) (Var 6 sort.Val) (Var 7 sort.List)) ∷ []) }); post = (record { opened = []; facts = ((Rel relation.Eq (Var 8 sort.Val) (Of unary.Vi (Number (pos 0)))) ∷ []); locals = []; items = ((Pred (record { name = name_two; args = ((Var 0 sort.Val) ∷ []) })) ∷ (Data (Number (pos 64)) (Var 3 sort.Val) (Of2 binary.Cons (Of unary.Vi (Var 4 sort.Int)) (Of2 binary.Cons (Var 5 sort.Val) (Of2 binary.Cons (Of unary.Vi (Number (pos 3))) Nil)))) ∷ (Data (Number (pos 64)) (Var 6 sort.Val) (Var 7 sort.List)) ∷ []) }) }) ∷ (record { is_void = false; name = name_main; params = ([]); vars = []; pre = (record { opened = []; facts = ([]); locals = []; items = ([]) }); post = (record { opened = []; facts = ((Rel relation.Eq (Var 0 sort.Val) (Of unary.Vi (Number (pos 0)))) ∷ []); locals = []; items = ([]) }) }) ∷ []) }) (record { is_void = false; name = name_f; params = (name_s0 ∷ name_s1 ∷ name_r2 ∷ []); vars = ((name_w0, sort.Val) ∷ (name_h0, sort.Int) ∷ (name_q0, sort.Val) ∷ (name_w1, sort.Val) ∷ (name_h1, sort.Int) ∷ (name_q1, sort.Val) ∷ (name_e2, sort.Val) ∷ (name_l2, sort.List) ∷ []); pre = (record { opened = []; facts = ((Rel relation.Le (Number (pos 0)) (Var 1 sort.Int)) ∷ (Rel relation.Le (Var 1 sort.Int) (Number (pos 20))) ∷ (Rel relation.Le (Number (pos 0)) (Var 4 sort.Int)) ∷ (Rel relation.Le (Var 4 sort.Int) (Number (pos 20))) ∷ (Rel relation.Eq (Of unary.Len (Var 7 sort.List)) (Number (pos 1))) ∷ []); locals = ((name_s0, (Var 0 sort.Val)) ∷ (name_s1, (Var 3 sort.Val)) ∷ (name_r2, (Var 6 sort.Val)) ∷ []); items = ((Pred (record { name = name_two; args = ((Var 0 sort.Val) ∷ []) })) ∷ (Data (Number (pos 64)) (Var 3 sort.Val) (Of2 binary.Cons (Of unary.Vi (Var 4 sort.Int)) (Of2 binary.Cons (Var 5 sort.Val) (Of2 binary.Cons (Of unary.Vi (Number (pos 3))) Nil)))) ∷ (Data (Number (pos 64)) (Var 6 sort.Val) (Var 7 sort.List)) ∷ []) }); post = (record { opened = []; facts = ((Rel relation.Eq (Var 8 sort.Val) (Of unary.Vi (Number (pos 0)))) ∷ []); locals = []; items = ((Pred (record { name = name_two; args = ((Var 0 sort.Val) ∷ []) })) ∷ (Data (Number (pos 64)) (Var 3 sort.Val) (Of2 binary.Cons (Of unary.Vi (Var 4 sort.Int)) (Of2 binary.Cons (Var 5 sort.Val) (Of2 binary.Cons (Of unary.Vi (Number (pos 3))) Nil)))) ∷ (Data (Number (pos 64)) (Var 6 sort.Val) (Var 7 sort.List)) ∷ []) }) }) (record { temps = (name_s0 ∷ name_s1 ∷ name_r2 ∷ name_s ∷ name_t ∷ name_i ∷ name_x1 ∷ name_d0 ∷ name_p1 ∷ name_q1 ∷ []); body = (c.Then (c.Set 3 (c.Const 3)) (c.Then (c.Set 4 (c.Const 2)) (c.Then (c.Set 3 (c.Binary two.Eq kind.Signed (c.Const 1) (c.Temp 3))) (c.Then (c.Set 4 (c.Binary two.Lt kind.Signed (c.Const 3) (c.Const 3))) (c.Then (c.Return (Some (c.Const 0))) c.End))))) }) (s.Then 1 (s.Rewrite false 4 (occurrence.Local name_s1)) s.NoBlock (s.Then 2 (s.Set ([]) ([])) s.NoBlock (s.Then 3 (s.Set ([]) ([])) s.NoBlock (s.Then 4 (s.Set ([]) ([])) s.NoBlock (s.Then 5 (s.Split (Rel relation.Le (Named name_h1) (Number (pos 5))) ([]) ([])) (s.WithBlock (s.Then 6 (s.Set ([]) ([])) s.NoBlock (s.Then 7 (s.Return ([]) ([]) ([])) s.NoBlock s.End)) (s.WithBlock (s.Then 8 (s.Unfold 0 (([]) ∷ (name_k1 ∷ name_k2 ∷ []) ∷ [])) (s.WithBlock (s.Then 9 (s.Set ([]) ([])) s.NoBlock (s.Then 10 (s.Fold name_two 0 ((Of unary.Vi (Number (pos 0))) ∷ []) ([]) ([])) s.NoBlock (s.Then 11 (s.Return ([]) ([]) ([])) s.NoBlock s.End))) (s.WithBlock (s.Then 12 (s.Set ([]) ([])) s.NoBlock (s.Then 13 (s.Law name_band_hi ((Number (pos 7)) ∷ (Number (pos 7)) ∷ []) ([])) s.NoBlock (s.Then 14 (s.Fold name_two 0 ((Of unary.Vi (Number (pos 0))) ∷ []) ([]) ([])) s.NoBlock (s.Then 15 (s.Return ([]) ([]) ([])) s.NoBlock s.End)))) s.NoBlock)) s.End) s.NoBlock)) s.End))))) ≡ (RefusedAt 11 9 5)
unfolding computing
random_431 = refl

random_432 : body_verdict (record { predicates = ((record { name = name_two; args = (sort.Val ∷ []); cases = ((record { opened = []; facts = ((Rel relation.Eq (Var 0 sort.Val) (Of unary.Vi (Number (pos 0)))) ∷ []); locals = []; items = ([]) }) ∷ (record { opened = (sort.Int ∷ sort.Val ∷ []); facts = ((Rel relation.Ne (Var 0 sort.Val) (Of unary.Vi (Number (pos 0)))) ∷ (Rel relation.Le (Number (pos 0)) (Var 1 sort.Int)) ∷ (Rel relation.Le (Var 1 sort.Int) (Number (pos 9))) ∷ []); locals = []; items = ((Data (Number (pos 64)) (Var 0 sort.Val) (Of2 binary.Cons (Of unary.Vi (Var 1 sort.Int)) (Of2 binary.Cons (Var 2 sort.Val) (Of2 binary.Cons (Of unary.Vi (Number (pos 7))) Nil)))) ∷ []) }) ∷ []) }) ∷ []); specs = ((record { is_void = false; name = name_f; params = (name_s0 ∷ name_s1 ∷ name_r2 ∷ []); vars = ((name_w0, sort.Val) ∷ (name_h0, sort.Int) ∷ (name_q0, sort.Val) ∷ (name_w1, sort.Val) ∷ (name_h1, sort.Int) ∷ (name_q1, sort.Val) ∷ (name_e2, sort.Val) ∷ (name_l2, sort.List) ∷ []); pre = (record { opened = []; facts = ((Rel relation.Le (Number (pos 0)) (Var 1 sort.Int)) ∷ (Rel relation.Le (Var 1 sort.Int) (Number (pos 20))) ∷ (Rel relation.Le (Number (pos 0)) (Var 4 sort.Int)) ∷ (Rel relation.Le (Var 4 sort.Int) (Number (pos 20))) ∷ (Rel relation.Eq (Of unary.Len (Var 7 sort.List)) (Number (pos 1))) ∷ []); locals = ((name_s0, (Var 0 sort.Val)) ∷ (name_s1, (Var 3 sort.Val)) ∷ (name_r2, (Var 6 sort.Val)) ∷ []); items = ((Pred (record { name = name_two; args = ((Var 0 sort.Val) ∷ []) })) ∷ (Data (Number (pos 64)) (Var 3 sort.Val) (Of2 binary.Cons (Of unary.Vi (Var 4 sort.Int)) (Of2 binary.Cons (Var 5 sort.Val) (Of2 binary.Cons (Of unary.Vi (Number (pos 3))) Nil)))) ∷ (Data (Number (pos 64)) (Var 6 sort.Val) (Var 7 sort.List)) ∷ []) }); post = (record { opened = []; facts = ((Rel relation.Eq (Var 8 sort.Val) (Of unary.Vi (Number (pos 0)))) ∷ []); locals = []; items = ((Pred (record { name = name_two; args = ((Var 0 sort.Val) ∷ []) })) ∷ (Data (Number (pos 64)) (Var 3 sort.Val) (Of2 binary.Cons (Of unary.Vi (Var 4 sort.Int)) (Of2 binary.Cons (Var 5 sort.Val) (Of2 binary.Cons (Of unary.Vi (Number (pos 3))) Nil)))) ∷ (Data (Number (pos 64)) (Var 6 sort.Val) (Var 7 sort.List)) ∷ []) }) }) ∷ (record { is_void = false; name = name_main; params = ([]); vars = []; pre = (record { opened = []; facts = ([]); locals = []; items = ([]) }); post = (record { opened = []; facts = ((Rel relation.Eq (Var 0 sort.Val) (Of unary.Vi (Number (pos 0)))) ∷ []); locals = []; items = ([]) }) }) ∷ []) }) (record { is_void = false; name = name_f; params = (name_s0 ∷ name_s1 ∷ name_r2 ∷ []); vars = ((name_w0, sort.Val) ∷ (name_h0, sort.Int) ∷ (name_q0, sort.Val) ∷ (name_w1, sort.Val) ∷ (name_h1, sort.Int) ∷ (name_q1, sort.Val) ∷ (name_e2, sort.Val) ∷ (name_l2, sort.List) ∷ []); pre = (record { opened = []; facts = ((Rel relation.Le (Number (pos 0)) (Var 1 sort.Int)) ∷ (Rel relation.Le (Var 1 sort.Int) (Number (pos 20))) ∷ (Rel relation.Le (Number (pos 0)) (Var 4 sort.Int)) ∷ (Rel relation.Le (Var 4 sort.Int) (Number (pos 20))) ∷ (Rel relation.Eq (Of unary.Len (Var 7 sort.List)) (Number (pos 1))) ∷ []); locals = ((name_s0, (Var 0 sort.Val)) ∷ (name_s1, (Var 3 sort.Val)) ∷ (name_r2, (Var 6 sort.Val)) ∷ []); items = ((Pred (record { name = name_two; args = ((Var 0 sort.Val) ∷ []) })) ∷ (Data (Number (pos 64)) (Var 3 sort.Val) (Of2 binary.Cons (Of unary.Vi (Var 4 sort.Int)) (Of2 binary.Cons (Var 5 sort.Val) (Of2 binary.Cons (Of unary.Vi (Number (pos 3))) Nil)))) ∷ (Data (Number (pos 64)) (Var 6 sort.Val) (Var 7 sort.List)) ∷ []) }); post = (record { opened = []; facts = ((Rel relation.Eq (Var 8 sort.Val) (Of unary.Vi (Number (pos 0)))) ∷ []); locals = []; items = ((Pred (record { name = name_two; args = ((Var 0 sort.Val) ∷ []) })) ∷ (Data (Number (pos 64)) (Var 3 sort.Val) (Of2 binary.Cons (Of unary.Vi (Var 4 sort.Int)) (Of2 binary.Cons (Var 5 sort.Val) (Of2 binary.Cons (Of unary.Vi (Number (pos 3))) Nil)))) ∷ (Data (Number (pos 64)) (Var 6 sort.Val) (Var 7 sort.List)) ∷ []) }) }) (record { temps = (name_s0 ∷ name_s1 ∷ name_r2 ∷ name_s ∷ name_t ∷ name_zz ∷ name_x1 ∷ name_d0 ∷ name_p1 ∷ name_q1 ∷ []); body = (c.Then (c.Set 3 (c.Const 3)) (c.Then (c.Set 4 (c.Const 2)) (c.Then (c.Set 3 (c.Binary two.Eq kind.Signed (c.Const 1) (c.Temp 3))) (c.Then (c.Set 4 (c.Binary two.Lt kind.Signed (c.Const 3) (c.Const 3))) (c.Then (c.Return (Some (c.Const 0))) c.End))))) }) (s.Then 1 (s.Rewrite false 4 (occurrence.Local name_s1)) s.NoBlock (s.Then 2 (s.Set ([]) ([])) s.NoBlock (s.Then 3 (s.Set ([]) ([])) s.NoBlock (s.Then 4 (s.Set ([]) ([])) s.NoBlock (s.Then 5 (s.Split (Rel relation.Le (Named name_h1) (Number (pos 2))) ([]) ([])) (s.WithBlock (s.Then 6 (s.Set ([]) ([])) s.NoBlock s.End) (s.WithBlock (s.Then 7 (s.Unfold 0 (([]) ∷ (name_k1 ∷ name_k2 ∷ []) ∷ [])) (s.WithBlock (s.Then 8 (s.Set ([]) ([])) s.NoBlock (s.Then 9 (s.Fold name_two 0 ((Of unary.Vi (Number (pos 0))) ∷ []) ([]) ([])) s.NoBlock (s.Then 10 (s.Return ([]) ([]) ([])) s.NoBlock s.End))) (s.WithBlock (s.Then 11 (s.Set ([]) ([])) s.NoBlock (s.Then 12 (s.Law name_band_hi ((Number (pos 7)) ∷ (Number (pos 7)) ∷ []) ([])) s.NoBlock (s.Then 13 (s.Fold name_two 0 ((Of unary.Vi (Number (pos 0))) ∷ []) ([]) ([])) s.NoBlock (s.Then 14 (s.Return ([]) ([]) ([])) s.NoBlock s.End)))) s.NoBlock)) s.End) s.NoBlock)) s.End))))) ≡ (RefusedAt 7 0 10)
unfolding computing
random_432 = refl

random_433 : body_verdict (record { predicates = ((record { name = name_two; args = (sort.Val ∷ []); cases = ((record { opened = []; facts = ((Rel relation.Eq (Var 0 sort.Val) (Of unary.Vi (Number (pos 0)))) ∷ []); locals = []; items = ([]) }) ∷ (record { opened = (sort.Int ∷ sort.Val ∷ []); facts = ((Rel relation.Ne (Var 0 sort.Val) (Of unary.Vi (Number (pos 0)))) ∷ (Rel relation.Le (Number (pos 0)) (Var 1 sort.Int)) ∷ (Rel relation.Le (Var 1 sort.Int) (Number (pos 9))) ∷ []); locals = []; items = ((Data (Number (pos 64)) (Var 0 sort.Val) (Of2 binary.Cons (Of unary.Vi (Var 1 sort.Int)) (Of2 binary.Cons (Var 2 sort.Val) (Of2 binary.Cons (Of unary.Vi (Number (pos 7))) Nil)))) ∷ []) }) ∷ []) }) ∷ []); specs = ((record { is_void = false; name = name_f; params = (name_s0 ∷ name_s1 ∷ name_r2 ∷ []); vars = ((name_w0, sort.Val) ∷ (name_h0, sort.Int) ∷ (name_q0, sort.Val) ∷ (name_w1, sort.Val) ∷ (name_h1, sort.Int) ∷ (name_q1, sort.Val) ∷ (name_e2, sort.Val) ∷ (name_l2, sort.List) ∷ []); pre = (record { opened = []; facts = ((Rel relation.Le (Number (pos 0)) (Var 1 sort.Int)) ∷ (Rel relation.Le (Var 1 sort.Int) (Number (pos 20))) ∷ (Rel relation.Le (Number (pos 0)) (Var 4 sort.Int)) ∷ (Rel relation.Le (Var 4 sort.Int) (Number (pos 20))) ∷ (Rel relation.Eq (Of unary.Len (Var 7 sort.List)) (Number (pos 1))) ∷ []); locals = ((name_s0, (Var 0 sort.Val)) ∷ (name_s1, (Var 3 sort.Val)) ∷ (name_r2, (Var 6 sort.Val)) ∷ []); items = ((Pred (record { name = name_two; args = ((Var 0 sort.Val) ∷ []) })) ∷ (Data (Number (pos 64)) (Var 3 sort.Val) (Of2 binary.Cons (Of unary.Vi (Var 4 sort.Int)) (Of2 binary.Cons (Var 5 sort.Val) (Of2 binary.Cons (Of unary.Vi (Number (pos 3))) Nil)))) ∷ (Data (Number (pos 64)) (Var 6 sort.Val) (Var 7 sort.List)) ∷ []) }); post = (record { opened = []; facts = ((Rel relation.Eq (Var 8 sort.Val) (Of unary.Vi (Number (pos 0)))) ∷ []); locals = []; items = ((Pred (record { name = name_two; args = ((Var 0 sort.Val) ∷ []) })) ∷ (Data (Number (pos 64)) (Var 3 sort.Val) (Of2 binary.Cons (Of unary.Vi (Var 4 sort.Int)) (Of2 binary.Cons (Var 5 sort.Val) (Of2 binary.Cons (Of unary.Vi (Number (pos 3))) Nil)))) ∷ (Data (Number (pos 64)) (Var 6 sort.Val) (Var 7 sort.List)) ∷ []) }) }) ∷ (record { is_void = false; name = name_main; params = ([]); vars = []; pre = (record { opened = []; facts = ([]); locals = []; items = ([]) }); post = (record { opened = []; facts = ((Rel relation.Eq (Var 0 sort.Val) (Of unary.Vi (Number (pos 0)))) ∷ []); locals = []; items = ([]) }) }) ∷ []) }) (record { is_void = false; name = name_f; params = (name_s0 ∷ name_s1 ∷ name_r2 ∷ []); vars = ((name_w0, sort.Val) ∷ (name_h0, sort.Int) ∷ (name_q0, sort.Val) ∷ (name_w1, sort.Val) ∷ (name_h1, sort.Int) ∷ (name_q1, sort.Val) ∷ (name_e2, sort.Val) ∷ (name_l2, sort.List) ∷ []); pre = (record { opened = []; facts = ((Rel relation.Le (Number (pos 0)) (Var 1 sort.Int)) ∷ (Rel relation.Le (Var 1 sort.Int) (Number (pos 20))) ∷ (Rel relation.Le (Number (pos 0)) (Var 4 sort.Int)) ∷ (Rel relation.Le (Var 4 sort.Int) (Number (pos 20))) ∷ (Rel relation.Eq (Of unary.Len (Var 7 sort.List)) (Number (pos 1))) ∷ []); locals = ((name_s0, (Var 0 sort.Val)) ∷ (name_s1, (Var 3 sort.Val)) ∷ (name_r2, (Var 6 sort.Val)) ∷ []); items = ((Pred (record { name = name_two; args = ((Var 0 sort.Val) ∷ []) })) ∷ (Data (Number (pos 64)) (Var 3 sort.Val) (Of2 binary.Cons (Of unary.Vi (Var 4 sort.Int)) (Of2 binary.Cons (Var 5 sort.Val) (Of2 binary.Cons (Of unary.Vi (Number (pos 3))) Nil)))) ∷ (Data (Number (pos 64)) (Var 6 sort.Val) (Var 7 sort.List)) ∷ []) }); post = (record { opened = []; facts = ((Rel relation.Eq (Var 8 sort.Val) (Of unary.Vi (Number (pos 0)))) ∷ []); locals = []; items = ((Pred (record { name = name_two; args = ((Var 0 sort.Val) ∷ []) })) ∷ (Data (Number (pos 64)) (Var 3 sort.Val) (Of2 binary.Cons (Of unary.Vi (Var 4 sort.Int)) (Of2 binary.Cons (Var 5 sort.Val) (Of2 binary.Cons (Of unary.Vi (Number (pos 3))) Nil)))) ∷ (Data (Number (pos 64)) (Var 6 sort.Val) (Var 7 sort.List)) ∷ []) }) }) (record { temps = (name_s0 ∷ name_s1 ∷ name_r2 ∷ name_s ∷ name_t ∷ name_i ∷ name_x1 ∷ name_d0 ∷ name_p1 ∷ name_q1 ∷ []); body = (c.Then (c.Set 3 (c.Const 3)) (c.Then (c.Set 4 (c.Const 2)) (c.Then (c.Set 3 (c.Binary two.Eq kind.Signed (c.Const 1) (c.Temp 3))) (c.Then (c.Set 4 (c.Binary two.Lt kind.Signed (c.Const 2147483647) (c.Const 3))) (c.Then (c.Return (Some (c.Const 0))) c.End))))) }) (s.Then 1 (s.Rewrite false 4 (occurrence.Local name_s1)) s.NoBlock (s.Then 2 (s.Set ([]) ([])) s.NoBlock (s.Then 3 (s.Set ([]) ([])) s.NoBlock (s.Then 4 (s.Set ([]) ([])) s.NoBlock (s.Then 5 (s.Split (Rel relation.Le (Named name_h1) (Number (pos 2))) ([]) ([])) (s.WithBlock (s.Then 6 (s.Set ([]) ([])) s.NoBlock (s.Then 7 (s.Return ([]) ([]) ([])) s.NoBlock s.End)) (s.WithBlock (s.Then 8 (s.Unfold 0 (([]) ∷ (name_k1 ∷ name_k2 ∷ []) ∷ [])) (s.WithBlock (s.Then 9 (s.Set ([]) ([])) s.NoBlock (s.Then 10 (s.Fold name_two 0 ((Of unary.Vi (Number (pos 0))) ∷ []) ([]) ([])) s.NoBlock (s.Then 11 (s.Return ([]) ([]) ([])) s.NoBlock s.End))) (s.WithBlock (s.Then 12 (s.Set ([]) ([])) s.NoBlock (s.Then 13 (s.Law name_band_hi ((Number (pos 7)) ∷ (Number (pos 7)) ∷ []) ([])) s.NoBlock (s.Then 14 (s.Fold name_two 0 ((Of unary.Vi (Number (pos 0))) ∷ []) ([]) ([])) s.NoBlock (s.Then 15 (s.Return ([]) ([]) ([])) s.NoBlock s.End)))) s.NoBlock)) s.End) s.NoBlock)) s.End))))) ≡ (RefusedAt 11 9 5)
unfolding computing
random_433 = refl

random_434 : body_verdict (record { predicates = ((record { name = name_two; args = (sort.Val ∷ []); cases = ((record { opened = []; facts = ((Rel relation.Eq (Var 0 sort.Val) (Of unary.Vi (Number (pos 0)))) ∷ []); locals = []; items = ([]) }) ∷ (record { opened = (sort.Int ∷ sort.Val ∷ []); facts = ((Rel relation.Ne (Var 0 sort.Val) (Of unary.Vi (Number (pos 0)))) ∷ (Rel relation.Le (Number (pos 0)) (Var 1 sort.Int)) ∷ (Rel relation.Le (Var 1 sort.Int) (Number (pos 9))) ∷ []); locals = []; items = ((Data (Number (pos 64)) (Var 0 sort.Val) (Of2 binary.Cons (Of unary.Vi (Var 1 sort.Int)) (Of2 binary.Cons (Var 2 sort.Val) (Of2 binary.Cons (Of unary.Vi (Number (pos 7))) Nil)))) ∷ []) }) ∷ []) }) ∷ []); specs = ((record { is_void = false; name = name_f; params = (name_s0 ∷ name_s1 ∷ name_r2 ∷ []); vars = ((name_w0, sort.Val) ∷ (name_h0, sort.Int) ∷ (name_q0, sort.Val) ∷ (name_w1, sort.Val) ∷ (name_h1, sort.Int) ∷ (name_q1, sort.Val) ∷ (name_e2, sort.Val) ∷ (name_l2, sort.List) ∷ []); pre = (record { opened = []; facts = ((Rel relation.Le (Number (pos 0)) (Var 1 sort.Int)) ∷ (Rel relation.Le (Var 1 sort.Int) (Number (pos 20))) ∷ (Rel relation.Le (Number (pos 0)) (Var 4 sort.Int)) ∷ (Rel relation.Le (Var 4 sort.Int) (Number (pos 20))) ∷ (Rel relation.Eq (Of unary.Len (Var 7 sort.List)) (Number (pos 1))) ∷ []); locals = ((name_s0, (Var 0 sort.Val)) ∷ (name_s1, (Var 3 sort.Val)) ∷ (name_r2, (Var 6 sort.Val)) ∷ []); items = ((Pred (record { name = name_two; args = ((Var 0 sort.Val) ∷ []) })) ∷ (Data (Number (pos 64)) (Var 3 sort.Val) (Of2 binary.Cons (Of unary.Vi (Var 4 sort.Int)) (Of2 binary.Cons (Var 5 sort.Val) (Of2 binary.Cons (Of unary.Vi (Number (pos 3))) Nil)))) ∷ (Data (Number (pos 64)) (Var 6 sort.Val) (Var 7 sort.List)) ∷ []) }); post = (record { opened = []; facts = ((Rel relation.Eq (Var 8 sort.Val) (Of unary.Vi (Number (pos 0)))) ∷ []); locals = []; items = ((Pred (record { name = name_two; args = ((Var 0 sort.Val) ∷ []) })) ∷ (Data (Number (pos 64)) (Var 3 sort.Val) (Of2 binary.Cons (Of unary.Vi (Var 4 sort.Int)) (Of2 binary.Cons (Var 5 sort.Val) (Of2 binary.Cons (Of unary.Vi (Number (pos 3))) Nil)))) ∷ (Data (Number (pos 64)) (Var 6 sort.Val) (Var 7 sort.List)) ∷ []) }) }) ∷ (record { is_void = false; name = name_main; params = ([]); vars = []; pre = (record { opened = []; facts = ([]); locals = []; items = ([]) }); post = (record { opened = []; facts = ((Rel relation.Eq (Var 0 sort.Val) (Of unary.Vi (Number (pos 0)))) ∷ []); locals = []; items = ([]) }) }) ∷ []) }) (record { is_void = false; name = name_f; params = (name_s0 ∷ name_s1 ∷ name_r2 ∷ []); vars = ((name_w0, sort.Val) ∷ (name_h0, sort.Int) ∷ (name_q0, sort.Val) ∷ (name_w1, sort.Val) ∷ (name_h1, sort.Int) ∷ (name_q1, sort.Val) ∷ (name_e2, sort.Val) ∷ (name_l2, sort.List) ∷ []); pre = (record { opened = []; facts = ((Rel relation.Le (Number (pos 0)) (Var 1 sort.Int)) ∷ (Rel relation.Le (Var 1 sort.Int) (Number (pos 20))) ∷ (Rel relation.Le (Number (pos 0)) (Var 4 sort.Int)) ∷ (Rel relation.Le (Var 4 sort.Int) (Number (pos 20))) ∷ (Rel relation.Eq (Of unary.Len (Var 7 sort.List)) (Number (pos 1))) ∷ []); locals = ((name_s0, (Var 0 sort.Val)) ∷ (name_s1, (Var 3 sort.Val)) ∷ (name_r2, (Var 6 sort.Val)) ∷ []); items = ((Pred (record { name = name_two; args = ((Var 0 sort.Val) ∷ []) })) ∷ (Data (Number (pos 64)) (Var 3 sort.Val) (Of2 binary.Cons (Of unary.Vi (Var 4 sort.Int)) (Of2 binary.Cons (Var 5 sort.Val) (Of2 binary.Cons (Of unary.Vi (Number (pos 3))) Nil)))) ∷ (Data (Number (pos 64)) (Var 6 sort.Val) (Var 7 sort.List)) ∷ []) }); post = (record { opened = []; facts = ((Rel relation.Eq (Var 8 sort.Val) (Of unary.Vi (Number (pos 0)))) ∷ []); locals = []; items = ((Pred (record { name = name_two; args = ((Var 0 sort.Val) ∷ []) })) ∷ (Data (Number (pos 64)) (Var 3 sort.Val) (Of2 binary.Cons (Of unary.Vi (Var 4 sort.Int)) (Of2 binary.Cons (Var 5 sort.Val) (Of2 binary.Cons (Of unary.Vi (Number (pos 3))) Nil)))) ∷ (Data (Number (pos 64)) (Var 6 sort.Val) (Var 7 sort.List)) ∷ []) }) }) (record { temps = (name_s0 ∷ name_s1 ∷ name_r2 ∷ name_s ∷ name_t ∷ name_i ∷ name_x1 ∷ name_d0 ∷ name_p1 ∷ name_q1 ∷ []); body = (c.Then (c.Set 3 (c.Const 3)) (c.Then (c.Set 4 (c.Const 2)) (c.Then (c.Set 3 (c.Binary two.Eq kind.Signed (c.Const 1) (c.Temp 3))) (c.Then (c.Set 4 (c.Binary two.Lt kind.Signed (c.Const 3) (c.Const 5))) (c.Then (c.Return (Some (c.Const 0))) c.End))))) }) (s.Then 1 (s.Rewrite false 4 (occurrence.Local name_s1)) s.NoBlock (s.Then 2 (s.Set ([]) ([])) s.NoBlock (s.Then 3 (s.Set ([]) ([])) s.NoBlock (s.Then 4 (s.Set ([]) ([])) s.NoBlock (s.Then 5 (s.Split (Rel relation.Le (Named name_h1) (Number (pos 2))) ([]) ([])) (s.WithBlock (s.Then 6 (s.Set ([]) ([])) s.NoBlock (s.Then 7 (s.Return ([]) ([]) ([])) s.NoBlock s.End)) (s.WithBlock (s.Then 8 (s.Unfold 0 (([]) ∷ (name_k1 ∷ name_k2 ∷ []) ∷ [])) (s.WithBlock (s.Then 9 (s.Set ([]) ([])) s.NoBlock (s.Then 10 (s.Fold name_two 0 ((Of unary.Vi (Number (pos 0))) ∷ []) ([]) ([])) s.NoBlock (s.Then 11 (s.Return ([]) ([]) ([])) s.NoBlock s.End))) (s.WithBlock (s.Then 12 (s.Set ([]) ([])) s.NoBlock (s.Then 13 (s.If ([]) ([]) ([]) ([])) (s.WithBlock s.End (s.WithBlock s.End s.NoBlock)) (s.Then 14 (s.Fold name_two 0 ((Of unary.Vi (Number (pos 0))) ∷ []) ([]) ([])) s.NoBlock (s.Then 15 (s.Return ([]) ([]) ([])) s.NoBlock s.End)))) s.NoBlock)) s.End) s.NoBlock)) s.End))))) ≡ (RefusedAt 11 9 5)
unfolding computing
random_434 = refl

random_435 : body_verdict (record { predicates = ((record { name = name_two; args = (sort.Val ∷ []); cases = ((record { opened = []; facts = ((Rel relation.Eq (Var 0 sort.Val) (Of unary.Vi (Number (pos 0)))) ∷ []); locals = []; items = ([]) }) ∷ (record { opened = (sort.Int ∷ sort.Val ∷ []); facts = ((Rel relation.Ne (Var 0 sort.Val) (Of unary.Vi (Number (pos 0)))) ∷ (Rel relation.Le (Number (pos 0)) (Var 1 sort.Int)) ∷ (Rel relation.Le (Var 1 sort.Int) (Number (pos 9))) ∷ []); locals = []; items = ((Data (Number (pos 64)) (Var 0 sort.Val) (Of2 binary.Cons (Of unary.Vi (Var 1 sort.Int)) (Of2 binary.Cons (Var 2 sort.Val) (Of2 binary.Cons (Of unary.Vi (Number (pos 7))) Nil)))) ∷ []) }) ∷ []) }) ∷ []); specs = ((record { is_void = false; name = name_f; params = (name_s0 ∷ name_s1 ∷ name_r2 ∷ []); vars = ((name_w0, sort.Val) ∷ (name_h0, sort.Int) ∷ (name_q0, sort.Val) ∷ (name_w1, sort.Val) ∷ (name_h1, sort.Int) ∷ (name_q1, sort.Val) ∷ (name_e2, sort.Val) ∷ (name_l2, sort.List) ∷ []); pre = (record { opened = []; facts = ((Rel relation.Le (Number (pos 0)) (Var 1 sort.Int)) ∷ (Rel relation.Le (Var 1 sort.Int) (Number (pos 20))) ∷ (Rel relation.Le (Number (pos 0)) (Var 4 sort.Int)) ∷ (Rel relation.Le (Var 4 sort.Int) (Number (pos 20))) ∷ (Rel relation.Eq (Of unary.Len (Var 7 sort.List)) (Number (pos 1))) ∷ []); locals = ((name_s0, (Var 0 sort.Val)) ∷ (name_s1, (Var 3 sort.Val)) ∷ (name_r2, (Var 6 sort.Val)) ∷ []); items = ((Pred (record { name = name_two; args = ((Var 0 sort.Val) ∷ []) })) ∷ (Data (Number (pos 64)) (Var 3 sort.Val) (Of2 binary.Cons (Of unary.Vi (Var 4 sort.Int)) (Of2 binary.Cons (Var 5 sort.Val) (Of2 binary.Cons (Of unary.Vi (Number (pos 3))) Nil)))) ∷ (Data (Number (pos 64)) (Var 6 sort.Val) (Var 7 sort.List)) ∷ []) }); post = (record { opened = []; facts = ((Rel relation.Eq (Var 8 sort.Val) (Of unary.Vi (Number (pos 0)))) ∷ []); locals = []; items = ((Pred (record { name = name_two; args = ((Var 0 sort.Val) ∷ []) })) ∷ (Data (Number (pos 64)) (Var 3 sort.Val) (Of2 binary.Cons (Of unary.Vi (Var 4 sort.Int)) (Of2 binary.Cons (Var 5 sort.Val) (Of2 binary.Cons (Of unary.Vi (Number (pos 3))) Nil)))) ∷ (Data (Number (pos 64)) (Var 6 sort.Val) (Var 7 sort.List)) ∷ []) }) }) ∷ (record { is_void = false; name = name_main; params = ([]); vars = []; pre = (record { opened = []; facts = ([]); locals = []; items = ([]) }); post = (record { opened = []; facts = ((Rel relation.Eq (Var 0 sort.Val) (Of unary.Vi (Number (pos 0)))) ∷ []); locals = []; items = ([]) }) }) ∷ []) }) (record { is_void = false; name = name_f; params = (name_s0 ∷ name_s1 ∷ name_r2 ∷ []); vars = ((name_w0, sort.Val) ∷ (name_h0, sort.Int) ∷ (name_q0, sort.Val) ∷ (name_w1, sort.Val) ∷ (name_h1, sort.Int) ∷ (name_q1, sort.Val) ∷ (name_e2, sort.Val) ∷ (name_l2, sort.List) ∷ []); pre = (record { opened = []; facts = ((Rel relation.Le (Number (pos 0)) (Var 1 sort.Int)) ∷ (Rel relation.Le (Var 1 sort.Int) (Number (pos 20))) ∷ (Rel relation.Le (Number (pos 0)) (Var 4 sort.Int)) ∷ (Rel relation.Le (Var 4 sort.Int) (Number (pos 20))) ∷ (Rel relation.Eq (Of unary.Len (Var 7 sort.List)) (Number (pos 1))) ∷ []); locals = ((name_s0, (Var 0 sort.Val)) ∷ (name_s1, (Var 3 sort.Val)) ∷ (name_r2, (Var 6 sort.Val)) ∷ []); items = ((Pred (record { name = name_two; args = ((Var 0 sort.Val) ∷ []) })) ∷ (Data (Number (pos 64)) (Var 3 sort.Val) (Of2 binary.Cons (Of unary.Vi (Var 4 sort.Int)) (Of2 binary.Cons (Var 5 sort.Val) (Of2 binary.Cons (Of unary.Vi (Number (pos 3))) Nil)))) ∷ (Data (Number (pos 64)) (Var 6 sort.Val) (Var 7 sort.List)) ∷ []) }); post = (record { opened = []; facts = ((Rel relation.Eq (Var 8 sort.Val) (Of unary.Vi (Number (pos 0)))) ∷ []); locals = []; items = ((Pred (record { name = name_two; args = ((Var 0 sort.Val) ∷ []) })) ∷ (Data (Number (pos 64)) (Var 3 sort.Val) (Of2 binary.Cons (Of unary.Vi (Var 4 sort.Int)) (Of2 binary.Cons (Var 5 sort.Val) (Of2 binary.Cons (Of unary.Vi (Number (pos 3))) Nil)))) ∷ (Data (Number (pos 64)) (Var 6 sort.Val) (Var 7 sort.List)) ∷ []) }) }) (record { temps = (name_s0 ∷ name_s1 ∷ name_r2 ∷ name_s ∷ name_t ∷ name_i ∷ name_x1 ∷ name_d0 ∷ name_p1 ∷ name_q1 ∷ []); body = (c.Then (c.Set 3 (c.Const 3)) (c.Then (c.Set 4 (c.Const 2)) (c.Then (c.Set 3 (c.Binary two.Eq kind.Signed (c.Const 1) (c.Temp 3))) (c.Then (c.Set 4 (c.Binary two.Lt kind.Signed (c.Const 3) (c.Const 3))) (c.Then (c.Return (Some (c.Const 0))) c.End))))) }) (s.Then 1 (s.Rewrite false 4 (occurrence.Local name_s1)) s.NoBlock (s.Then 2 (s.Set ([]) ([])) s.NoBlock (s.Then 3 (s.Set ([]) ([])) s.NoBlock (s.Then 4 (s.Set ([]) ([])) s.NoBlock (s.Then 5 (s.Split (Rel relation.Le (Named name_h1) (Number (pos 0))) ([]) ([])) (s.WithBlock (s.Then 6 (s.Set ([]) ([])) s.NoBlock (s.Then 7 (s.Return ([]) ([]) ([])) s.NoBlock s.End)) (s.WithBlock (s.Then 8 (s.Unfold 0 (([]) ∷ (name_k1 ∷ name_k2 ∷ []) ∷ [])) (s.WithBlock (s.Then 9 (s.Set ([]) ([])) s.NoBlock (s.Then 10 (s.Fold name_two 0 ((Of unary.Vi (Number (pos 0))) ∷ []) ([]) ([])) s.NoBlock (s.Then 11 (s.Return ([]) ([]) ([])) s.NoBlock s.End))) (s.WithBlock (s.Then 12 (s.Set ([]) ([])) s.NoBlock (s.Then 13 (s.Law name_band_hi ((Number (pos 7)) ∷ (Number (pos 7)) ∷ []) ([])) s.NoBlock (s.Then 14 (s.Fold name_two 0 ((Of unary.Vi (Number (pos 0))) ∷ []) ([]) ([])) s.NoBlock (s.Then 15 (s.Return ([]) ([]) ([])) s.NoBlock s.End)))) s.NoBlock)) s.End) s.NoBlock)) s.End))))) ≡ (RefusedAt 11 9 5)
unfolding computing
random_435 = refl

random_436 : body_verdict (record { predicates = ((record { name = name_two; args = (sort.Val ∷ []); cases = ((record { opened = []; facts = ((Rel relation.Eq (Var 0 sort.Val) (Of unary.Vi (Number (pos 0)))) ∷ []); locals = []; items = ([]) }) ∷ (record { opened = (sort.Int ∷ sort.Val ∷ []); facts = ((Rel relation.Ne (Var 0 sort.Val) (Of unary.Vi (Number (pos 0)))) ∷ (Rel relation.Le (Number (pos 0)) (Var 1 sort.Int)) ∷ (Rel relation.Le (Var 1 sort.Int) (Number (pos 9))) ∷ []); locals = []; items = ((Data (Number (pos 64)) (Var 0 sort.Val) (Of2 binary.Cons (Of unary.Vi (Var 1 sort.Int)) (Of2 binary.Cons (Var 2 sort.Val) (Of2 binary.Cons (Of unary.Vi (Number (pos 7))) Nil)))) ∷ []) }) ∷ []) }) ∷ []); specs = ((record { is_void = false; name = name_f; params = (name_s0 ∷ name_s1 ∷ name_r2 ∷ []); vars = ((name_w0, sort.Val) ∷ (name_h0, sort.Int) ∷ (name_q0, sort.Val) ∷ (name_w1, sort.Val) ∷ (name_h1, sort.Int) ∷ (name_q1, sort.Val) ∷ (name_e2, sort.Val) ∷ (name_l2, sort.List) ∷ []); pre = (record { opened = []; facts = ((Rel relation.Le (Number (pos 0)) (Var 1 sort.Int)) ∷ (Rel relation.Le (Var 1 sort.Int) (Number (pos 20))) ∷ (Rel relation.Le (Number (pos 0)) (Var 4 sort.Int)) ∷ (Rel relation.Le (Var 4 sort.Int) (Number (pos 20))) ∷ (Rel relation.Eq (Of unary.Len (Var 7 sort.List)) (Number (pos 1))) ∷ []); locals = ((name_s0, (Var 0 sort.Val)) ∷ (name_s1, (Var 3 sort.Val)) ∷ (name_r2, (Var 6 sort.Val)) ∷ []); items = ((Pred (record { name = name_two; args = ((Var 0 sort.Val) ∷ []) })) ∷ (Data (Number (pos 64)) (Var 3 sort.Val) (Of2 binary.Cons (Of unary.Vi (Var 4 sort.Int)) (Of2 binary.Cons (Var 5 sort.Val) (Of2 binary.Cons (Of unary.Vi (Number (pos 3))) Nil)))) ∷ (Data (Number (pos 64)) (Var 6 sort.Val) (Var 7 sort.List)) ∷ []) }); post = (record { opened = []; facts = ((Rel relation.Eq (Var 8 sort.Val) (Of unary.Vi (Number (pos 0)))) ∷ []); locals = []; items = ((Pred (record { name = name_two; args = ((Var 0 sort.Val) ∷ []) })) ∷ (Data (Number (pos 64)) (Var 3 sort.Val) (Of2 binary.Cons (Of unary.Vi (Var 4 sort.Int)) (Of2 binary.Cons (Var 5 sort.Val) (Of2 binary.Cons (Of unary.Vi (Number (pos 3))) Nil)))) ∷ (Data (Number (pos 64)) (Var 6 sort.Val) (Var 7 sort.List)) ∷ []) }) }) ∷ (record { is_void = false; name = name_main; params = ([]); vars = []; pre = (record { opened = []; facts = ([]); locals = []; items = ([]) }); post = (record { opened = []; facts = ((Rel relation.Eq (Var 0 sort.Val) (Of unary.Vi (Number (pos 0)))) ∷ []); locals = []; items = ([]) }) }) ∷ []) }) (record { is_void = false; name = name_f; params = (name_s0 ∷ name_s1 ∷ name_r2 ∷ []); vars = ((name_w0, sort.Val) ∷ (name_h0, sort.Int) ∷ (name_q0, sort.Val) ∷ (name_w1, sort.Val) ∷ (name_h1, sort.Int) ∷ (name_q1, sort.Val) ∷ (name_e2, sort.Val) ∷ (name_l2, sort.List) ∷ []); pre = (record { opened = []; facts = ((Rel relation.Le (Number (pos 0)) (Var 1 sort.Int)) ∷ (Rel relation.Le (Var 1 sort.Int) (Number (pos 20))) ∷ (Rel relation.Le (Number (pos 0)) (Var 4 sort.Int)) ∷ (Rel relation.Le (Var 4 sort.Int) (Number (pos 20))) ∷ (Rel relation.Eq (Of unary.Len (Var 7 sort.List)) (Number (pos 1))) ∷ []); locals = ((name_s0, (Var 0 sort.Val)) ∷ (name_s1, (Var 3 sort.Val)) ∷ (name_r2, (Var 6 sort.Val)) ∷ []); items = ((Pred (record { name = name_two; args = ((Var 0 sort.Val) ∷ []) })) ∷ (Data (Number (pos 64)) (Var 3 sort.Val) (Of2 binary.Cons (Of unary.Vi (Var 4 sort.Int)) (Of2 binary.Cons (Var 5 sort.Val) (Of2 binary.Cons (Of unary.Vi (Number (pos 3))) Nil)))) ∷ (Data (Number (pos 64)) (Var 6 sort.Val) (Var 7 sort.List)) ∷ []) }); post = (record { opened = []; facts = ((Rel relation.Eq (Var 8 sort.Val) (Of unary.Vi (Number (pos 0)))) ∷ []); locals = []; items = ((Pred (record { name = name_two; args = ((Var 0 sort.Val) ∷ []) })) ∷ (Data (Number (pos 64)) (Var 3 sort.Val) (Of2 binary.Cons (Of unary.Vi (Var 4 sort.Int)) (Of2 binary.Cons (Var 5 sort.Val) (Of2 binary.Cons (Of unary.Vi (Number (pos 3))) Nil)))) ∷ (Data (Number (pos 64)) (Var 6 sort.Val) (Var 7 sort.List)) ∷ []) }) }) (record { temps = (name_s0 ∷ name_s1 ∷ name_r2 ∷ name_s ∷ name_t ∷ name_i ∷ name_x1 ∷ name_d0 ∷ name_p1 ∷ name_q1 ∷ []); body = (c.Then (c.Set 3 (c.Const 3)) (c.Then (c.Set 4 (c.Const 2)) (c.Then (c.Set 3 (c.Binary two.Eq kind.Signed (c.Const 1) (c.Temp 3))) (c.Then (c.Set 4 (c.Binary two.Lt kind.Signed (c.Const 3) (c.Const 3))) (c.Then (c.Return (Some (c.Const 0))) c.End))))) }) (s.Then 1 (s.Rewrite false 4 (occurrence.Local name_s1)) s.NoBlock (s.Then 2 (s.Set ([]) ([])) s.NoBlock (s.Then 3 (s.Set ([]) ([])) s.NoBlock (s.Then 4 (s.Set ([]) ([])) s.NoBlock (s.Then 5 (s.Split (Rel relation.Le (Named name_s1) (Number (pos 2))) ([]) ([])) (s.WithBlock (s.Then 6 (s.Set ([]) ([])) s.NoBlock (s.Then 7 (s.Return ([]) ([]) ([])) s.NoBlock s.End)) (s.WithBlock (s.Then 8 (s.Unfold 0 (([]) ∷ (name_k1 ∷ name_k2 ∷ []) ∷ [])) (s.WithBlock (s.Then 9 (s.Set ([]) ([])) s.NoBlock (s.Then 10 (s.Fold name_two 0 ((Of unary.Vi (Number (pos 0))) ∷ []) ([]) ([])) s.NoBlock (s.Then 11 (s.Return ([]) ([]) ([])) s.NoBlock s.End))) (s.WithBlock (s.Then 12 (s.Set ([]) ([])) s.NoBlock (s.Then 13 (s.Law name_band_hi ((Number (pos 7)) ∷ (Number (pos 7)) ∷ []) ([])) s.NoBlock (s.Then 14 (s.Fold name_two 0 ((Of unary.Vi (Number (pos 0))) ∷ []) ([]) ([])) s.NoBlock (s.Then 15 (s.Return ([]) ([]) ([])) s.NoBlock s.End)))) s.NoBlock)) s.End) s.NoBlock)) s.End))))) ≡ (RefusedAt 5 23 1)
unfolding computing
random_436 = refl

random_437 : body_verdict (record { predicates = ((record { name = name_two; args = (sort.Val ∷ []); cases = ((record { opened = []; facts = ((Rel relation.Eq (Var 0 sort.Val) (Of unary.Vi (Number (pos 0)))) ∷ []); locals = []; items = ([]) }) ∷ (record { opened = (sort.Int ∷ sort.Val ∷ []); facts = ((Rel relation.Ne (Var 0 sort.Val) (Of unary.Vi (Number (pos 0)))) ∷ (Rel relation.Le (Number (pos 0)) (Var 1 sort.Int)) ∷ (Rel relation.Le (Var 1 sort.Int) (Number (pos 9))) ∷ []); locals = []; items = ((Data (Number (pos 64)) (Var 0 sort.Val) (Of2 binary.Cons (Of unary.Vi (Var 1 sort.Int)) (Of2 binary.Cons (Var 2 sort.Val) (Of2 binary.Cons (Of unary.Vi (Number (pos 7))) Nil)))) ∷ []) }) ∷ []) }) ∷ []); specs = ((record { is_void = false; name = name_f; params = (name_s0 ∷ name_s1 ∷ name_r2 ∷ []); vars = ((name_w0, sort.Val) ∷ (name_h0, sort.Int) ∷ (name_q0, sort.Val) ∷ (name_w1, sort.Val) ∷ (name_h1, sort.Int) ∷ (name_q1, sort.Val) ∷ (name_e2, sort.Val) ∷ (name_l2, sort.List) ∷ []); pre = (record { opened = []; facts = ((Rel relation.Le (Number (pos 0)) (Var 1 sort.Int)) ∷ (Rel relation.Le (Var 1 sort.Int) (Number (pos 20))) ∷ (Rel relation.Le (Number (pos 0)) (Var 4 sort.Int)) ∷ (Rel relation.Le (Var 4 sort.Int) (Number (pos 20))) ∷ (Rel relation.Eq (Of unary.Len (Var 7 sort.List)) (Number (pos 1))) ∷ []); locals = ((name_s0, (Var 0 sort.Val)) ∷ (name_s1, (Var 3 sort.Val)) ∷ (name_r2, (Var 6 sort.Val)) ∷ []); items = ((Pred (record { name = name_two; args = ((Var 0 sort.Val) ∷ []) })) ∷ (Data (Number (pos 64)) (Var 3 sort.Val) (Of2 binary.Cons (Of unary.Vi (Var 4 sort.Int)) (Of2 binary.Cons (Var 5 sort.Val) (Of2 binary.Cons (Of unary.Vi (Number (pos 3))) Nil)))) ∷ (Data (Number (pos 64)) (Var 6 sort.Val) (Var 7 sort.List)) ∷ []) }); post = (record { opened = []; facts = ((Rel relation.Eq (Var 8 sort.Val) (Of unary.Vi (Number (pos 0)))) ∷ []); locals = []; items = ((Pred (record { name = name_two; args = ((Var 0 sort.Val) ∷ []) })) ∷ (Data (Number (pos 64)) (Var 3 sort.Val) (Of2 binary.Cons (Of unary.Vi (Var 4 sort.Int)) (Of2 binary.Cons (Var 5 sort.Val) (Of2 binary.Cons (Of unary.Vi (Number (pos 3))) Nil)))) ∷ (Data (Number (pos 64)) (Var 6 sort.Val) (Var 7 sort.List)) ∷ []) }) }) ∷ (record { is_void = false; name = name_main; params = ([]); vars = []; pre = (record { opened = []; facts = ([]); locals = []; items = ([]) }); post = (record { opened = []; facts = ((Rel relation.Eq (Var 0 sort.Val) (Of unary.Vi (Number (pos 0)))) ∷ []); locals = []; items = ([]) }) }) ∷ []) }) (record { is_void = false; name = name_f; params = (name_s0 ∷ name_s1 ∷ name_r2 ∷ []); vars = ((name_w0, sort.Val) ∷ (name_h0, sort.Int) ∷ (name_q0, sort.Val) ∷ (name_w1, sort.Val) ∷ (name_h1, sort.Int) ∷ (name_q1, sort.Val) ∷ (name_e2, sort.Val) ∷ (name_l2, sort.List) ∷ []); pre = (record { opened = []; facts = ((Rel relation.Le (Number (pos 0)) (Var 1 sort.Int)) ∷ (Rel relation.Le (Var 1 sort.Int) (Number (pos 20))) ∷ (Rel relation.Le (Number (pos 0)) (Var 4 sort.Int)) ∷ (Rel relation.Le (Var 4 sort.Int) (Number (pos 20))) ∷ (Rel relation.Eq (Of unary.Len (Var 7 sort.List)) (Number (pos 1))) ∷ []); locals = ((name_s0, (Var 0 sort.Val)) ∷ (name_s1, (Var 3 sort.Val)) ∷ (name_r2, (Var 6 sort.Val)) ∷ []); items = ((Pred (record { name = name_two; args = ((Var 0 sort.Val) ∷ []) })) ∷ (Data (Number (pos 64)) (Var 3 sort.Val) (Of2 binary.Cons (Of unary.Vi (Var 4 sort.Int)) (Of2 binary.Cons (Var 5 sort.Val) (Of2 binary.Cons (Of unary.Vi (Number (pos 3))) Nil)))) ∷ (Data (Number (pos 64)) (Var 6 sort.Val) (Var 7 sort.List)) ∷ []) }); post = (record { opened = []; facts = ((Rel relation.Eq (Var 8 sort.Val) (Of unary.Vi (Number (pos 0)))) ∷ []); locals = []; items = ((Pred (record { name = name_two; args = ((Var 0 sort.Val) ∷ []) })) ∷ (Data (Number (pos 64)) (Var 3 sort.Val) (Of2 binary.Cons (Of unary.Vi (Var 4 sort.Int)) (Of2 binary.Cons (Var 5 sort.Val) (Of2 binary.Cons (Of unary.Vi (Number (pos 3))) Nil)))) ∷ (Data (Number (pos 64)) (Var 6 sort.Val) (Var 7 sort.List)) ∷ []) }) }) (record { temps = (name_s0 ∷ name_s1 ∷ name_r2 ∷ name_s ∷ name_t ∷ name_i ∷ name_x1 ∷ name_d0 ∷ name_p1 ∷ name_q1 ∷ []); body = (c.Then (c.Set 3 (c.Const 3)) (c.Then (c.Set 4 (c.Const 2)) (c.Then (c.Set 3 (c.Binary two.Eq kind.Signed (c.Const 1) (c.Temp 3))) (c.Then (c.Set 4 (c.Binary two.Lt kind.Signed (c.Const 3) (c.Const 3))) (c.Then (c.Return (Some (c.Const 0))) c.End))))) }) (s.Then 1 (s.Rewrite false 4 (occurrence.Local name_s1)) s.NoBlock (s.Then 2 (s.Set ([]) ([])) s.NoBlock (s.Then 3 (s.Set ([]) ([])) s.NoBlock (s.Then 4 (s.Set ([]) ([])) s.NoBlock (s.Then 5 (s.Split (Rel relation.Le (Named name_h1) (Number (pos 3))) ([]) ([])) (s.WithBlock (s.Then 6 (s.Set ([]) ([])) s.NoBlock (s.Then 7 (s.Return ([]) ([]) ([])) s.NoBlock s.End)) (s.WithBlock (s.Then 8 (s.Unfold 0 (([]) ∷ (name_k1 ∷ name_k2 ∷ []) ∷ [])) (s.WithBlock (s.Then 9 (s.Set ([]) ([])) s.NoBlock (s.Then 10 (s.Fold name_two 0 ((Of unary.Vi (Number (pos 0))) ∷ []) ([]) ([])) s.NoBlock (s.Then 11 (s.Return ([]) ([]) ([])) s.NoBlock s.End))) (s.WithBlock (s.Then 12 (s.Set ([]) ([])) s.NoBlock (s.Then 13 (s.Law name_band_hi ((Number (pos 7)) ∷ (Number (pos 7)) ∷ []) ([])) s.NoBlock (s.Then 14 (s.Fold name_two 0 ((Of unary.Vi (Number (pos 0))) ∷ []) ([]) ([])) s.NoBlock (s.Then 15 (s.Return ([]) ([]) ([])) s.NoBlock s.End)))) s.NoBlock)) s.End) s.NoBlock)) s.End))))) ≡ (RefusedAt 11 9 5)
unfolding computing
random_437 = refl

random_438 : body_verdict (record { predicates = ([]); specs = ((record { is_void = false; name = name_pos; params = (name_n ∷ []); vars = ((name_a, sort.Int) ∷ []); pre = (record { opened = []; facts = ((Rel relation.Le (Number (pos 0)) (Var 0 sort.Int)) ∷ (Rel relation.Le (Var 0 sort.Int) (Number (pos 100))) ∷ []); locals = ((name_n, (Of unary.Vi (Var 0 sort.Int))) ∷ []); items = ([]) }); post = (record { opened = (sort.Int ∷ []); facts = ((Rel relation.Eq (Var 1 sort.Val) (Of unary.Vi (Var 2 sort.Int))) ∷ (Rel relation.Le (Number (pos 0)) (Var 2 sort.Int)) ∷ (Rel relation.Le (Var 2 sort.Int) (Var 0 sort.Int)) ∷ []); locals = []; items = ([]) }) }) ∷ (record { is_void = false; name = name_f; params = (name_n0 ∷ []); vars = ((name_a0, sort.Int) ∷ []); pre = (record { opened = []; facts = ((Rel relation.Le (Number (pos 1)) (Var 0 sort.Int)) ∷ (Rel relation.Le (Var 0 sort.Int) (Number (pos 9))) ∷ []); locals = ((name_n0, (Of unary.Vi (Var 0 sort.Int))) ∷ []); items = ([]) }); post = (record { opened = []; facts = ([]); locals = []; items = ([]) }) }) ∷ (record { is_void = false; name = name_main; params = ([]); vars = []; pre = (record { opened = []; facts = ([]); locals = []; items = ([]) }); post = (record { opened = []; facts = ((Rel relation.Eq (Var 0 sort.Val) (Of unary.Vi (Number (pos 0)))) ∷ []); locals = []; items = ([]) }) }) ∷ []) }) (record { is_void = false; name = name_f; params = (name_n0 ∷ []); vars = ((name_a0, sort.Int) ∷ []); pre = (record { opened = []; facts = ((Rel relation.Le (Number (pos 1)) (Var 0 sort.Int)) ∷ (Rel relation.Le (Var 0 sort.Int) (Number (pos 9))) ∷ []); locals = ((name_n0, (Of unary.Vi (Var 0 sort.Int))) ∷ []); items = ([]) }); post = (record { opened = []; facts = ([]); locals = []; items = ([]) }) }) (record { temps = (name_n0 ∷ name_s ∷ name_t ∷ name_i ∷ name_x1 ∷ name_d0 ∷ name_p1 ∷ name_q1 ∷ []); body = (c.Then (c.Set 1 (c.Const 1)) (c.Then (c.Set 2 (c.Const 2)) (c.Then (c.Set 4 (c.Const 0)) (c.Then (c.Set 3 (c.Const 0)) (c.Then (c.Loop (c.Then (c.If (c.Nonzero kind.Signed (c.Binary two.Lt kind.Signed (c.Temp 3) (c.Const 1))) (c.Then (c.Set 4 (c.Binary two.Add kind.Unsigned (c.Temp 4) (c.Const 2))) (c.Then (c.Set 3 (c.Binary two.Add kind.Signed (c.Temp 3) (c.Const 1))) (c.Then c.Skip c.End))) (c.Then c.Break c.End)) c.End)) (c.Then (c.Set 1 (c.Binary two.Add kind.Signed (c.Temp 0) (c.Const 2))) (c.Then (c.Set 1 (c.Binary two.Add kind.Signed (c.Const 1) (c.Const 1))) (c.Then (c.Call (Some 2) name_pos ((c.Temp 1) ∷ [])) (c.Then (c.Return (Some (c.Const 0))) c.End))))))))) }) (s.Then 1 (s.Set ([]) ([])) s.NoBlock (s.Then 2 (s.Set ([]) ([])) s.NoBlock (s.Then 3 s.Skip s.NoBlock (s.Then 4 (s.Set ([]) ([])) s.NoBlock (s.Then 5 (s.While (record { opened = (sort.Int ∷ sort.Int ∷ []); facts = ((Rel relation.Le (Number (pos 0)) (Var 0 sort.Int)) ∷ (Rel relation.Le (Var 0 sort.Int) (Number (pos 1))) ∷ []); locals = ((name_n0, (Of unary.Vi (Named name_a0))) ∷ (name_s, (Of unary.Vi (Number (pos 1)))) ∷ (name_t, (Of unary.Vi (Number (pos 2)))) ∷ (name_i, (Of unary.Vi (Var 0 sort.Int))) ∷ (name_x1, (Of unary.Vi (Var 1 sort.Int))) ∷ []); items = ([]) }) (record { opened = (sort.Int ∷ sort.Int ∷ []); facts = ((Rel relation.Le (Number (pos 0)) (Var 0 sort.Int)) ∷ (Rel relation.Le (Var 0 sort.Int) (Number (pos 1))) ∷ (Rel relation.Le (Number (pos 1)) (Var 0 sort.Int)) ∷ []); locals = ((name_n0, (Of unary.Vi (Named name_a0))) ∷ (name_s, (Of unary.Vi (Number (pos 1)))) ∷ (name_t, (Of unary.Vi (Number (pos 2)))) ∷ (name_i, (Of unary.Vi (Var 0 sort.Int))) ∷ (name_x1, (Of unary.Vi (Var 1 sort.Int))) ∷ []); items = ([]) }) (name_k3 ∷ name_k4 ∷ []) ([]) (name_k1 ∷ name_k2 ∷ [])) (s.WithBlock (s.Then 6 (s.Meet ((Number (pos 0)) ∷ (Number (pos 0)) ∷ []) ([])) s.NoBlock s.End) (s.WithBlock (s.Then 7 (s.If ([]) ((record { lines = ((line.Comb (((pos 1), 2) ∷ ((pos 1), 4) ∷ [])) ∷ []) }) ∷ (record { lines = ((line.Comb (((pos 1), 3) ∷ ((pos 1), 4) ∷ [])) ∷ []) }) ∷ []) ([]) ([])) (s.WithBlock (s.Then 8 (s.Law name_band_hi ((Number (pos 1)) ∷ (Number (pos 7)) ∷ []) ([])) s.NoBlock (s.Then 9 (s.Set ([]) ([])) s.NoBlock (s.Then 10 (s.Set ([]) ((record { lines = ((line.Comb (((pos 1), 2) ∷ ((pos 1), 6) ∷ [])) ∷ []) }) ∷ (record { lines = ((line.Comb (((pos 1), 3) ∷ ((pos 1), 6) ∷ [])) ∷ []) }) ∷ (record { lines = ((line.Comb (((pos 1), 2) ∷ ((pos 1), 6) ∷ [])) ∷ []) }) ∷ (record { lines = ((line.Comb (((pos 1), 3) ∷ ((pos 1), 6) ∷ [])) ∷ []) }) ∷ [])) s.NoBlock (s.Then 11 s.Skip s.NoBlock (s.Then 12 (s.Fall ((Of2 binary.Add (Named name_k1) (Number (pos 1))) ∷ (Of2 binary.Add (Named name_k2) (Number (pos 2))) ∷ []) ((record { lines = ((line.Comb (((pos 1), 2) ∷ ((pos 1), 6) ∷ [])) ∷ []) }) ∷ [])) s.NoBlock s.End))))) (s.WithBlock (s.Then 13 (s.Break ((Named name_k1) ∷ (Named name_k2) ∷ []) ([])) s.NoBlock s.End) s.NoBlock)) s.End) s.NoBlock)) (s.Then 14 (s.Set ([]) ((record { lines = ((line.Comb (((pos 1), 0) ∷ ((pos 1), 5) ∷ [])) ∷ []) }) ∷ (record { lines = ((line.Comb (((pos 1), 1) ∷ ((pos 1), 5) ∷ [])) ∷ []) }) ∷ (record { lines = ((line.Comb (((pos 1), 0) ∷ ((pos 1), 5) ∷ [])) ∷ []) }) ∷ (record { lines = ((line.Comb (((pos 1), 1) ∷ ((pos 1), 5) ∷ [])) ∷ []) }) ∷ [])) s.NoBlock (s.Then 15 (s.Set ([]) ([])) s.NoBlock (s.Then 16 (s.Call ((Number (pos 2)) ∷ []) ([]) ([]) (name_k5 ∷ name_k6 ∷ [])) s.NoBlock (s.Then 17 (s.Return ([]) ([]) ([])) s.NoBlock s.End))))))))) ≡ (RefusedAt 3 1 1)
unfolding computing
random_438 = refl

random_439 : body_verdict (record { predicates = ([]); specs = ((record { is_void = false; name = name_pos; params = (name_n ∷ []); vars = ((name_a, sort.Int) ∷ []); pre = (record { opened = []; facts = ((Rel relation.Le (Number (pos 0)) (Var 0 sort.Int)) ∷ (Rel relation.Le (Var 0 sort.Int) (Number (pos 100))) ∷ []); locals = ((name_n, (Of unary.Vi (Var 0 sort.Int))) ∷ []); items = ([]) }); post = (record { opened = (sort.Int ∷ []); facts = ((Rel relation.Eq (Var 1 sort.Val) (Of unary.Vi (Var 2 sort.Int))) ∷ (Rel relation.Le (Number (pos 0)) (Var 2 sort.Int)) ∷ (Rel relation.Le (Var 2 sort.Int) (Var 0 sort.Int)) ∷ []); locals = []; items = ([]) }) }) ∷ (record { is_void = false; name = name_f; params = (name_n0 ∷ []); vars = ((name_a0, sort.Int) ∷ []); pre = (record { opened = []; facts = ((Rel relation.Le (Number (pos 1)) (Var 0 sort.Int)) ∷ (Rel relation.Le (Var 0 sort.Int) (Number (pos 9))) ∷ []); locals = ((name_n0, (Of unary.Vi (Var 0 sort.Int))) ∷ []); items = ([]) }); post = (record { opened = []; facts = ([]); locals = []; items = ([]) }) }) ∷ (record { is_void = false; name = name_main; params = ([]); vars = []; pre = (record { opened = []; facts = ([]); locals = []; items = ([]) }); post = (record { opened = []; facts = ((Rel relation.Eq (Var 0 sort.Val) (Of unary.Vi (Number (pos 0)))) ∷ []); locals = []; items = ([]) }) }) ∷ []) }) (record { is_void = false; name = name_f; params = (name_n0 ∷ []); vars = ((name_a0, sort.Int) ∷ []); pre = (record { opened = []; facts = ((Rel relation.Le (Number (pos 1)) (Var 0 sort.Int)) ∷ (Rel relation.Le (Var 0 sort.Int) (Number (pos 9))) ∷ []); locals = ((name_n0, (Of unary.Vi (Var 0 sort.Int))) ∷ []); items = ([]) }); post = (record { opened = []; facts = ([]); locals = []; items = ([]) }) }) (record { temps = (name_n0 ∷ name_s ∷ name_t ∷ name_i ∷ name_x1 ∷ name_d0 ∷ name_p1 ∷ name_q1 ∷ []); body = (c.Then (c.Set 1 (c.Const 1)) (c.Then (c.Set 2 (c.Const 2)) (c.Then (c.Set 4 (c.Const 0)) (c.Then (c.Set 3 (c.Const 0)) (c.Then (c.Loop (c.Then (c.If (c.Nonzero kind.Signed (c.Binary two.Lt kind.Signed (c.Temp 3) (c.Const 1))) (c.Then (c.Set 4 (c.Binary two.Add kind.Unsigned (c.Temp 4) (c.Const 2))) (c.Then (c.Set 3 (c.Binary two.Add kind.Signed (c.Temp 3) (c.Const 1))) (c.Then c.Skip c.End))) (c.Then c.Break c.End)) c.End)) (c.Then (c.Set 1 (c.Binary two.Add kind.Signed (c.Temp 0) (c.Const 2))) (c.Then (c.Set 1 (c.Binary two.Add kind.Signed (c.Const 1) (c.Const 1))) (c.Then (c.Call (Some 2) name_pos ((c.Temp 1) ∷ [])) (c.Then (c.Return (Some (c.Const 0))) c.End))))))))) }) (s.Then 1 (s.Set ([]) ([])) s.NoBlock (s.Then 2 (s.Set ([]) ([])) s.NoBlock (s.Then 3 (s.Set ([]) ([])) s.NoBlock (s.Then 4 (s.Set ([]) ([])) s.NoBlock (s.Then 5 (s.While (record { opened = (sort.Int ∷ sort.Int ∷ []); facts = ((Rel relation.Le (Number (pos 0)) (Var 0 sort.Int)) ∷ (Rel relation.Le (Var 0 sort.Int) (Number (pos 1))) ∷ []); locals = ((name_n0, (Of unary.Vi (Named name_a0))) ∷ (name_s, (Of unary.Vi (Number (pos 1)))) ∷ (name_t, (Of unary.Vi (Number (pos 2)))) ∷ (name_i, (Of unary.Vi (Var 0 sort.Int))) ∷ (name_x1, (Of unary.Vi (Var 1 sort.Int))) ∷ []); items = ([]) }) (record { opened = (sort.Int ∷ sort.Int ∷ []); facts = ((Rel relation.Le (Number (pos 0)) (Var 0 sort.Int)) ∷ (Rel relation.Le (Var 0 sort.Int) (Number (pos 1))) ∷ (Rel relation.Le (Number (pos 1)) (Var 0 sort.Int)) ∷ []); locals = ((name_n0, (Of unary.Vi (Named name_a0))) ∷ (name_s, (Of unary.Vi (Number (pos 1)))) ∷ (name_t, (Of unary.Vi (Number (pos 2)))) ∷ (name_i, (Of unary.Vi (Var 0 sort.Int))) ∷ (name_x1, (Of unary.Vi (Var 1 sort.Int))) ∷ []); items = ([]) }) (name_k3 ∷ name_k4 ∷ []) ([]) (name_k1 ∷ name_k2 ∷ [])) (s.WithBlock (s.Then 6 (s.Meet ((Number (pos 0)) ∷ (Number (pos 0)) ∷ []) ([])) s.NoBlock s.End) (s.WithBlock (s.Then 7 (s.If ([]) ((record { lines = ((line.Comb (((pos 1), 2) ∷ ((pos 1), 4) ∷ [])) ∷ []) }) ∷ (record { lines = ((line.Comb (((pos 1), 3) ∷ ((pos 1), 4) ∷ [])) ∷ []) }) ∷ []) ([]) ([])) (s.WithBlock (s.Then 8 (s.Law name_band_hi ((Number (pos 1)) ∷ (Number (pos 7)) ∷ []) ([])) s.NoBlock (s.Then 9 (s.Set ([]) ([])) s.NoBlock (s.Then 10 s.Skip s.NoBlock (s.Then 11 (s.Fall ((Of2 binary.Add (Named name_k1) (Number (pos 1))) ∷ (Of2 binary.Add (Named name_k2) (Number (pos 2))) ∷ []) ((record { lines = ((line.Comb (((pos 1), 2) ∷ ((pos 1), 6) ∷ [])) ∷ []) }) ∷ [])) s.NoBlock s.End)))) (s.WithBlock (s.Then 12 (s.Break ((Named name_k1) ∷ (Named name_k2) ∷ []) ([])) s.NoBlock s.End) s.NoBlock)) s.End) s.NoBlock)) (s.Then 13 (s.Set ([]) ((record { lines = ((line.Comb (((pos 1), 0) ∷ ((pos 1), 5) ∷ [])) ∷ []) }) ∷ (record { lines = ((line.Comb (((pos 1), 1) ∷ ((pos 1), 5) ∷ [])) ∷ []) }) ∷ (record { lines = ((line.Comb (((pos 1), 0) ∷ ((pos 1), 5) ∷ [])) ∷ []) }) ∷ (record { lines = ((line.Comb (((pos 1), 1) ∷ ((pos 1), 5) ∷ [])) ∷ []) }) ∷ [])) s.NoBlock (s.Then 14 (s.Set ([]) ([])) s.NoBlock (s.Then 15 (s.Call ((Number (pos 2)) ∷ []) ([]) ([]) (name_k5 ∷ name_k6 ∷ [])) s.NoBlock (s.Then 16 (s.Return ([]) ([]) ([])) s.NoBlock s.End))))))))) ≡ (RefusedAt 10 1 1)
unfolding computing
random_439 = refl

random_440 : body_verdict (record { predicates = ([]); specs = ((record { is_void = false; name = name_pos; params = (name_n ∷ []); vars = ((name_a, sort.Int) ∷ []); pre = (record { opened = []; facts = ((Rel relation.Le (Number (pos 0)) (Var 0 sort.Int)) ∷ (Rel relation.Le (Var 0 sort.Int) (Number (pos 100))) ∷ []); locals = ((name_n, (Of unary.Vi (Var 0 sort.Int))) ∷ []); items = ([]) }); post = (record { opened = (sort.Int ∷ []); facts = ((Rel relation.Eq (Var 1 sort.Val) (Of unary.Vi (Var 2 sort.Int))) ∷ (Rel relation.Le (Number (pos 0)) (Var 2 sort.Int)) ∷ (Rel relation.Le (Var 2 sort.Int) (Var 0 sort.Int)) ∷ []); locals = []; items = ([]) }) }) ∷ (record { is_void = false; name = name_f; params = (name_n0 ∷ []); vars = ((name_a0, sort.Int) ∷ []); pre = (record { opened = []; facts = ((Rel relation.Le (Number (pos 1)) (Var 0 sort.Int)) ∷ (Rel relation.Le (Var 0 sort.Int) (Number (pos 9))) ∷ []); locals = ((name_n0, (Of unary.Vi (Var 0 sort.Int))) ∷ []); items = ([]) }); post = (record { opened = []; facts = ([]); locals = []; items = ([]) }) }) ∷ (record { is_void = false; name = name_main; params = ([]); vars = []; pre = (record { opened = []; facts = ([]); locals = []; items = ([]) }); post = (record { opened = []; facts = ((Rel relation.Eq (Var 0 sort.Val) (Of unary.Vi (Number (pos 0)))) ∷ []); locals = []; items = ([]) }) }) ∷ []) }) (record { is_void = false; name = name_f; params = (name_n0 ∷ []); vars = ((name_a0, sort.Int) ∷ []); pre = (record { opened = []; facts = ((Rel relation.Le (Number (pos 1)) (Var 0 sort.Int)) ∷ (Rel relation.Le (Var 0 sort.Int) (Number (pos 9))) ∷ []); locals = ((name_n0, (Of unary.Vi (Var 0 sort.Int))) ∷ []); items = ([]) }); post = (record { opened = []; facts = ([]); locals = []; items = ([]) }) }) (record { temps = (name_n0 ∷ name_s ∷ name_t ∷ name_i ∷ name_x1 ∷ name_d0 ∷ name_p1 ∷ name_q1 ∷ []); body = (c.Then (c.Set 1 (c.Const 1)) (c.Then (c.Set 2 (c.Const 2)) (c.Then (c.Set 4 (c.Const 0)) (c.Then (c.Set 3 (c.Const 0)) (c.Then (c.Loop (c.Then (c.If (c.Nonzero kind.Signed (c.Binary two.Lt kind.Signed (c.Temp 3) (c.Const 1))) (c.Then (c.Set 4 (c.Binary two.Add kind.Unsigned (c.Temp 4) (c.Const 2))) (c.Then (c.Set 3 (c.Binary two.Add kind.Signed (c.Temp 3) (c.Const 1))) (c.Then c.Skip c.End))) (c.Then c.Break c.End)) c.End)) (c.Then (c.Set 1 (c.Binary two.Add kind.Signed (c.Temp 0) (c.Const 2))) (c.Then (c.Set 1 (c.Binary two.Add kind.Signed (c.Const 1) (c.Const 1))) (c.Then (c.Call (Some 2) name_pos ((c.Temp 1) ∷ [])) (c.Then (c.Return (Some (c.Const 0))) c.End))))))))) }) (s.Then 1 (s.Set ([]) ([])) s.NoBlock (s.Then 2 (s.Set ([]) ([])) s.NoBlock (s.Then 3 (s.Set ([]) ([])) s.NoBlock (s.Then 4 (s.Set ([]) ([])) s.NoBlock (s.Then 5 (s.While (record { opened = (sort.Int ∷ sort.Int ∷ []); facts = ((Rel relation.Le (Number (pos 0)) (Var 0 sort.Int)) ∷ (Rel relation.Le (Var 0 sort.Int) (Number (pos 1))) ∷ []); locals = ((name_n0, (Of unary.Vi (Named name_a0))) ∷ (name_s, (Of unary.Vi (Number (pos 1)))) ∷ (name_t, (Of unary.Vi (Number (pos 2)))) ∷ (name_i, (Of unary.Vi (Var 0 sort.Int))) ∷ (name_x1, (Of unary.Vi (Var 1 sort.Int))) ∷ []); items = ([]) }) (record { opened = (sort.Int ∷ sort.Int ∷ []); facts = ((Rel relation.Le (Number (pos 0)) (Var 0 sort.Int)) ∷ (Rel relation.Le (Var 0 sort.Int) (Number (pos 1))) ∷ (Rel relation.Le (Number (pos 1)) (Var 0 sort.Int)) ∷ []); locals = ((name_n0, (Of unary.Vi (Named name_a0))) ∷ (name_s, (Of unary.Vi (Number (pos 64)))) ∷ (name_t, (Of unary.Vi (Number (pos 2)))) ∷ (name_i, (Of unary.Vi (Var 0 sort.Int))) ∷ (name_x1, (Of unary.Vi (Var 1 sort.Int))) ∷ []); items = ([]) }) (name_k3 ∷ name_k4 ∷ []) ([]) (name_k1 ∷ name_k2 ∷ [])) (s.WithBlock (s.Then 6 (s.Meet ((Number (pos 0)) ∷ (Number (pos 0)) ∷ []) ([])) s.NoBlock s.End) (s.WithBlock (s.Then 7 (s.If ([]) ((record { lines = ((line.Comb (((pos 1), 2) ∷ ((pos 1), 4) ∷ [])) ∷ []) }) ∷ (record { lines = ((line.Comb (((pos 1), 3) ∷ ((pos 1), 4) ∷ [])) ∷ []) }) ∷ []) ([]) ([])) (s.WithBlock (s.Then 8 (s.Law name_band_hi ((Number (pos 1)) ∷ (Number (pos 7)) ∷ []) ([])) s.NoBlock (s.Then 9 (s.Set ([]) ([])) s.NoBlock (s.Then 10 (s.Set ([]) ((record { lines = ((line.Comb (((pos 1), 2) ∷ ((pos 1), 6) ∷ [])) ∷ []) }) ∷ (record { lines = ((line.Comb (((pos 1), 3) ∷ ((pos 1), 6) ∷ [])) ∷ []) }) ∷ (record { lines = ((line.Comb (((pos 1), 2) ∷ ((pos 3), 6) ∷ [])) ∷ []) }) ∷ (record { lines = ((line.Comb (((pos 1), 3) ∷ ((pos 1), 6) ∷ [])) ∷ []) }) ∷ [])) s.NoBlock (s.Then 11 s.Skip s.NoBlock (s.Then 12 (s.Fall ((Of2 binary.Add (Named name_k1) (Number (pos 1))) ∷ (Of2 binary.Add (Named name_k2) (Number (pos 2))) ∷ []) ((record { lines = ((line.Comb (((pos 1), 2) ∷ ((pos 1), 6) ∷ [])) ∷ []) }) ∷ [])) s.NoBlock s.End))))) (s.WithBlock (s.Then 13 (s.Break ((Named name_k1) ∷ (Named name_k2) ∷ []) ([])) s.NoBlock s.End) s.NoBlock)) s.End) s.NoBlock)) (s.Then 14 (s.Set ([]) ((record { lines = ((line.Comb (((pos 1), 0) ∷ ((pos 1), 5) ∷ [])) ∷ []) }) ∷ (record { lines = ((line.Comb (((pos 1), 1) ∷ ((pos 1), 5) ∷ [])) ∷ []) }) ∷ (record { lines = ((line.Comb (((pos 1), 0) ∷ ((pos 1), 5) ∷ [])) ∷ []) }) ∷ (record { lines = ((line.Comb (((pos 1), 1) ∷ ((pos 1), 5) ∷ [])) ∷ []) }) ∷ [])) s.NoBlock (s.Then 15 (s.Set ([]) ([])) s.NoBlock (s.Then 16 (s.Call ((Number (pos 2)) ∷ []) ([]) ([]) (name_k5 ∷ name_k6 ∷ [])) s.NoBlock (s.Then 17 (s.Return ([]) ([]) ([])) s.NoBlock s.End))))))))) ≡ (RefusedAt 10 2 3)
unfolding computing
random_440 = refl

random_441 : body_verdict (record { predicates = ([]); specs = ((record { is_void = false; name = name_pos; params = (name_n ∷ []); vars = ((name_a, sort.Int) ∷ []); pre = (record { opened = []; facts = ((Rel relation.Le (Number (pos 0)) (Var 0 sort.Int)) ∷ (Rel relation.Le (Var 0 sort.Int) (Number (pos 100))) ∷ []); locals = ((name_n, (Of unary.Vi (Var 0 sort.Int))) ∷ []); items = ([]) }); post = (record { opened = (sort.Int ∷ []); facts = ((Rel relation.Eq (Var 1 sort.Val) (Of unary.Vi (Var 2 sort.Int))) ∷ (Rel relation.Le (Number (pos 0)) (Var 2 sort.Int)) ∷ (Rel relation.Le (Var 2 sort.Int) (Var 0 sort.Int)) ∷ []); locals = []; items = ([]) }) }) ∷ (record { is_void = false; name = name_f; params = (name_n0 ∷ []); vars = ((name_a0, sort.Int) ∷ []); pre = (record { opened = []; facts = ((Rel relation.Le (Number (pos 1)) (Var 0 sort.Int)) ∷ (Rel relation.Le (Var 0 sort.Int) (Number (pos 9))) ∷ []); locals = ((name_n0, (Of unary.Vi (Var 0 sort.Int))) ∷ []); items = ([]) }); post = (record { opened = []; facts = ([]); locals = []; items = ([]) }) }) ∷ (record { is_void = false; name = name_main; params = ([]); vars = []; pre = (record { opened = []; facts = ([]); locals = []; items = ([]) }); post = (record { opened = []; facts = ((Rel relation.Eq (Var 0 sort.Val) (Of unary.Vi (Number (pos 0)))) ∷ []); locals = []; items = ([]) }) }) ∷ []) }) (record { is_void = false; name = name_f; params = (name_n0 ∷ []); vars = ((name_a0, sort.Int) ∷ []); pre = (record { opened = []; facts = ((Rel relation.Le (Number (pos 1)) (Var 0 sort.Int)) ∷ (Rel relation.Le (Var 0 sort.Int) (Number (pos 9))) ∷ []); locals = ((name_n0, (Of unary.Vi (Var 0 sort.Int))) ∷ []); items = ([]) }); post = (record { opened = []; facts = ([]); locals = []; items = ([]) }) }) (record { temps = (name_n0 ∷ name_s ∷ name_t ∷ name_i ∷ name_x1 ∷ name_d0 ∷ name_p1 ∷ name_q1 ∷ []); body = (c.Then (c.Set 1 (c.Const 1)) (c.Then (c.Set 2 (c.Const 2)) (c.Then (c.Set 4 (c.Const 0)) (c.Then (c.Set 3 (c.Const 0)) (c.Then (c.Loop (c.Then (c.If (c.Nonzero kind.Signed (c.Binary two.Lt kind.Signed (c.Temp 3) (c.Const 1))) (c.Then (c.Set 4 (c.Binary two.Add kind.Unsigned (c.Temp 4) (c.Const 2))) (c.Then (c.Set 3 (c.Binary two.Add kind.Signed (c.Temp 3) (c.Const 1))) (c.Then c.Skip c.End))) (c.Then c.Break c.End)) c.End)) (c.Then (c.Set 1 (c.Binary two.Add kind.Signed (c.Temp 0) (c.Const 2))) (c.Then (c.Set 1 (c.Binary two.Add kind.Signed (c.Const 1) (c.Const 1))) (c.Then (c.Call (Some 2) name_pos ((c.Temp 1) ∷ [])) (c.Then (c.Return (Some (c.Const 0))) c.End))))))))) }) (s.Then 1 (s.Set ([]) ([])) s.NoBlock (s.Then 2 (s.Set ([]) ([])) s.NoBlock (s.Then 3 (s.Set ([]) ([])) s.NoBlock (s.Then 4 (s.Set ([]) ([])) s.NoBlock (s.Then 5 (s.While (record { opened = (sort.Int ∷ sort.Int ∷ []); facts = ((Rel relation.Le (Number (pos 0)) (Var 0 sort.Int)) ∷ (Rel relation.Le (Var 0 sort.Int) (Number (pos 1))) ∷ []); locals = ((name_n0, (Of unary.Vi (Named name_a0))) ∷ (name_s, (Of unary.Vi (Number (pos 1)))) ∷ (name_t, (Of unary.Vi (Number (pos 2)))) ∷ (name_i, (Of unary.Vi (Var 0 sort.Int))) ∷ (name_x1, (Of unary.Vi (Var 1 sort.Int))) ∷ []); items = ([]) }) (record { opened = (sort.Int ∷ sort.Int ∷ []); facts = ((Rel relation.Le (Number (pos 0)) (Var 0 sort.Int)) ∷ (Rel relation.Le (Var 0 sort.Int) (Number (pos 1))) ∷ (Rel relation.Le (Number (pos 1)) (Var 0 sort.Int)) ∷ []); locals = ((name_n0, (Of unary.Vi (Named name_a0))) ∷ (name_s, (Of unary.Vi (Number (pos 1)))) ∷ (name_t, (Of unary.Vi (Number (pos 2)))) ∷ (name_i, (Of unary.Vi (Var 0 sort.Int))) ∷ (name_x1, (Of unary.Vi (Var 1 sort.Int))) ∷ []); items = ([]) }) (name_k3 ∷ name_k4 ∷ []) ([]) (name_k1 ∷ name_k2 ∷ [])) (s.WithBlock (s.Then 6 (s.Meet ((Number (pos 0)) ∷ (Number (pos 0)) ∷ []) ([])) s.NoBlock s.End) (s.WithBlock (s.Then 7 (s.If ([]) ((record { lines = ((line.Comb (((pos 1), 2) ∷ ((pos 1), 4) ∷ [])) ∷ []) }) ∷ (record { lines = ((line.Comb (((pos 1), 3) ∷ ((pos 1), 4) ∷ [])) ∷ []) }) ∷ []) ([]) ([])) (s.WithBlock (s.Then 8 (s.Law name_band_hi ((Number (pos 1)) ∷ (Number (pos 7)) ∷ []) ([])) s.NoBlock (s.Then 9 (s.Set ([]) ([])) s.NoBlock (s.Then 10 (s.Set ([]) ((record { lines = ((line.Comb (((pos 1), 2) ∷ ((pos 1), 6) ∷ [])) ∷ []) }) ∷ (record { lines = ((line.Comb (((pos 1), 3) ∷ ((pos 1), 6) ∷ [])) ∷ []) }) ∷ (record { lines = ((line.Comb (((pos 1), 2) ∷ ((pos 1), 6) ∷ [])) ∷ []) }) ∷ (record { lines = ((line.Comb (((pos 1), 3) ∷ ((pos 1), 6) ∷ [])) ∷ []) }) ∷ [])) s.NoBlock (s.Then 11 s.Skip s.NoBlock (s.Then 12 (s.Fall ((Of2 binary.Add (Named name_k1) (Number (pos 1))) ∷ (Of2 binary.Add (Named name_k2) (Number (pos 2))) ∷ []) ((record { lines = ((line.Comb (((pos 1), 2) ∷ ((pos 1), 6) ∷ [])) ∷ []) }) ∷ [])) s.NoBlock s.End))))) (s.WithBlock (s.Then 13 (s.Break ((Named name_k1) ∷ (Named name_k2) ∷ []) ([])) s.NoBlock (s.Then 14 (s.Break ((Named name_k1) ∷ (Named name_k2) ∷ []) ([])) s.NoBlock s.End)) s.NoBlock)) s.End) s.NoBlock)) (s.Then 15 (s.Set ([]) ((record { lines = ((line.Comb (((pos 1), 0) ∷ ((pos 1), 5) ∷ [])) ∷ []) }) ∷ (record { lines = ((line.Comb (((pos 1), 1) ∷ ((pos 1), 5) ∷ [])) ∷ []) }) ∷ (record { lines = ((line.Comb (((pos 1), 0) ∷ ((pos 1), 5) ∷ [])) ∷ []) }) ∷ (record { lines = ((line.Comb (((pos 1), 1) ∷ ((pos 1), 5) ∷ [])) ∷ []) }) ∷ [])) s.NoBlock (s.Then 16 (s.Set ([]) ([])) s.NoBlock (s.Then 17 (s.Call ((Number (pos 2)) ∷ []) ([]) ([]) (name_k5 ∷ name_k6 ∷ [])) s.NoBlock (s.Then 18 (s.Return ([]) ([]) ([])) s.NoBlock s.End))))))))) ≡ (RefusedAt 14 0 11)
unfolding computing
random_441 = refl

random_442 : body_verdict (record { predicates = ([]); specs = ((record { is_void = false; name = name_pos; params = (name_n ∷ []); vars = ((name_a, sort.Int) ∷ []); pre = (record { opened = []; facts = ((Rel relation.Le (Number (pos 0)) (Var 0 sort.Int)) ∷ (Rel relation.Le (Var 0 sort.Int) (Number (pos 100))) ∷ []); locals = ((name_n, (Of unary.Vi (Var 0 sort.Int))) ∷ []); items = ([]) }); post = (record { opened = (sort.Int ∷ []); facts = ((Rel relation.Eq (Var 1 sort.Val) (Of unary.Vi (Var 2 sort.Int))) ∷ (Rel relation.Le (Number (pos 0)) (Var 2 sort.Int)) ∷ (Rel relation.Le (Var 2 sort.Int) (Var 0 sort.Int)) ∷ []); locals = []; items = ([]) }) }) ∷ (record { is_void = false; name = name_f; params = (name_n0 ∷ []); vars = ((name_a0, sort.Int) ∷ []); pre = (record { opened = []; facts = ((Rel relation.Le (Number (pos 1)) (Var 0 sort.Int)) ∷ (Rel relation.Le (Var 0 sort.Int) (Number (pos 9))) ∷ []); locals = ((name_n0, (Of unary.Vi (Var 0 sort.Int))) ∷ []); items = ([]) }); post = (record { opened = []; facts = ([]); locals = []; items = ([]) }) }) ∷ (record { is_void = false; name = name_main; params = ([]); vars = []; pre = (record { opened = []; facts = ([]); locals = []; items = ([]) }); post = (record { opened = []; facts = ((Rel relation.Eq (Var 0 sort.Val) (Of unary.Vi (Number (pos 0)))) ∷ []); locals = []; items = ([]) }) }) ∷ []) }) (record { is_void = false; name = name_f; params = (name_n0 ∷ []); vars = ((name_a0, sort.Int) ∷ []); pre = (record { opened = []; facts = ((Rel relation.Le (Number (pos 1)) (Var 0 sort.Int)) ∷ (Rel relation.Le (Var 0 sort.Int) (Number (pos 9))) ∷ []); locals = ((name_n0, (Of unary.Vi (Var 0 sort.Int))) ∷ []); items = ([]) }); post = (record { opened = []; facts = ([]); locals = []; items = ([]) }) }) (record { temps = (name_n0 ∷ name_s ∷ name_t ∷ name_i ∷ name_x1 ∷ name_d0 ∷ name_p1 ∷ name_q1 ∷ []); body = (c.Then (c.Set 1 (c.Const 1)) (c.Then (c.Set 2 (c.Const 2)) (c.Then (c.Set 4 (c.Const 0)) (c.Then (c.Set 3 (c.Const 0)) (c.Then (c.Loop (c.Then (c.If (c.Nonzero kind.Signed (c.Binary two.Lt kind.Signed (c.Temp 3) (c.Const 1))) (c.Then (c.Set 4 (c.Binary two.Add kind.Unsigned (c.Temp 4) (c.Const 2))) (c.Then (c.Set 3 (c.Binary two.Add kind.Signed (c.Temp 3) (c.Const 1))) (c.Then c.Skip c.End))) (c.Then c.Break c.End)) c.End)) (c.Then (c.Set 1 (c.Binary two.Add kind.Signed (c.Temp 0) (c.Const 2))) (c.Then (c.Set 1 (c.Binary two.Add kind.Signed (c.Const 1) (c.Const 1))) (c.Then (c.Call (Some 2) name_pos ((c.Temp 1) ∷ [])) (c.Then (c.Return (Some (c.Const 0))) c.End))))))))) }) (s.Then 1 (s.Set ([]) ([])) s.NoBlock (s.Then 2 (s.Set ([]) ([])) s.NoBlock (s.Then 3 (s.Set ([]) ([])) s.NoBlock (s.Then 4 (s.Set ([]) ([])) s.NoBlock (s.Then 5 (s.While (record { opened = (sort.Int ∷ sort.Int ∷ []); facts = ((Rel relation.Le (Number (pos 0)) (Var 0 sort.Int)) ∷ (Rel relation.Le (Var 0 sort.Int) (Number (pos 1))) ∷ []); locals = ((name_n0, (Of unary.Vi (Named name_a0))) ∷ (name_s, (Of unary.Vi (Number (pos 1)))) ∷ (name_t, (Of unary.Vi (Number (pos 2)))) ∷ (name_i, (Of unary.Vi (Var 0 sort.Int))) ∷ (name_x1, (Of unary.Vi (Var 1 sort.Int))) ∷ []); items = ([]) }) (record { opened = (sort.Int ∷ sort.Int ∷ []); facts = ((Rel relation.Le (Number (pos 0)) (Var 0 sort.Int)) ∷ (Rel relation.Le (Var 0 sort.Int) (Number (pos 1))) ∷ (Rel relation.Le (Number (pos 1)) (Var 0 sort.Int)) ∷ []); locals = ((name_n0, (Of unary.Vi (Named name_a0))) ∷ (name_s, (Of unary.Vi (Number (pos 1)))) ∷ (name_t, (Of unary.Vi (Number (pos 2)))) ∷ (name_i, (Of unary.Vi (Var 0 sort.Int))) ∷ (name_x1, (Of unary.Vi (Var 1 sort.Int))) ∷ []); items = ([]) }) (name_k3 ∷ name_k4 ∷ []) ([]) (name_k1 ∷ name_k2 ∷ [])) (s.WithBlock (s.Then 6 (s.Meet ((Number (pos 0)) ∷ (Number (pos 0)) ∷ []) ([])) s.NoBlock s.End) (s.WithBlock (s.Then 7 (s.If ([]) ((record { lines = ((line.Comb (((pos 1), 2) ∷ ((pos 1), 4) ∷ [])) ∷ []) }) ∷ (record { lines = ((line.Comb (((pos 1), 3) ∷ ((pos 1), 4) ∷ [])) ∷ []) }) ∷ []) ([]) ([])) (s.WithBlock (s.Then 8 (s.Law name_band_hi ((Number (pos 1)) ∷ (Number (pos 7)) ∷ []) ([])) s.NoBlock (s.Then 9 (s.Set ([]) ([])) s.NoBlock (s.Then 10 (s.Set ([]) ((record { lines = ((line.Comb (((pos 1), 2) ∷ ((pos 1), 6) ∷ [])) ∷ []) }) ∷ (record { lines = ((line.Comb (((pos 1), 3) ∷ ((pos 1), 6) ∷ [])) ∷ []) }) ∷ (record { lines = ((line.Comb (((pos 1), 2) ∷ ((pos 1), 6) ∷ [])) ∷ []) }) ∷ (record { lines = ((line.Comb (((pos 1), 3) ∷ ((pos 1), 6) ∷ [])) ∷ []) }) ∷ [])) s.NoBlock (s.Then 11 s.Skip s.NoBlock (s.Then 12 (s.Fall ((Of2 binary.Add (Named name_k1) (Number (pos 1))) ∷ (Of2 binary.Add (Named name_k2) (Number (pos 2))) ∷ []) ((record { lines = ((line.Comb (((pos 1), 2) ∷ ((pos 1), 6) ∷ [])) ∷ []) }) ∷ [])) s.NoBlock s.End))))) (s.WithBlock (s.Then 13 (s.Break ((Named name_k1) ∷ (Named name_k2) ∷ []) ([])) s.NoBlock s.End) s.NoBlock)) s.End) s.NoBlock)) (s.Then 14 (s.Set ([]) ((record { lines = ((line.Comb (((pos 1), 0) ∷ ((pos 1), 5) ∷ [])) ∷ []) }) ∷ (record { lines = ((line.Comb (((pos 1), 1) ∷ ((pos 1), 5) ∷ [])) ∷ []) }) ∷ (record { lines = ((line.Comb (((pos 1), 0) ∷ ((pos 1), 5) ∷ [])) ∷ []) }) ∷ (record { lines = ((line.Comb (((pos 1), 1) ∷ ((pos 1), 5) ∷ [])) ∷ []) }) ∷ [])) s.NoBlock (s.Then 15 (s.Set ([]) ([])) s.NoBlock (s.Then 16 (s.Set ([]) ([])) s.NoBlock (s.Then 17 (s.Call ((Number (pos 2)) ∷ []) ([]) ([]) (name_k5 ∷ name_k6 ∷ [])) s.NoBlock (s.Then 18 (s.Return ([]) ([]) ([])) s.NoBlock s.End)))))))))) ≡ (RefusedAt 16 2 1)
unfolding computing
random_442 = refl

random_443 : body_verdict (record { predicates = ([]); specs = ((record { is_void = false; name = name_pos; params = (name_n ∷ []); vars = ((name_a, sort.Int) ∷ []); pre = (record { opened = []; facts = ((Rel relation.Le (Number (pos 0)) (Var 0 sort.Int)) ∷ (Rel relation.Le (Var 0 sort.Int) (Number (pos 100))) ∷ []); locals = ((name_n, (Of unary.Vi (Var 0 sort.Int))) ∷ []); items = ([]) }); post = (record { opened = (sort.Int ∷ []); facts = ((Rel relation.Eq (Var 1 sort.Val) (Of unary.Vi (Var 2 sort.Int))) ∷ (Rel relation.Le (Number (pos 0)) (Var 2 sort.Int)) ∷ (Rel relation.Le (Var 2 sort.Int) (Var 0 sort.Int)) ∷ []); locals = []; items = ([]) }) }) ∷ (record { is_void = false; name = name_f; params = (name_n0 ∷ []); vars = ((name_a0, sort.Int) ∷ []); pre = (record { opened = []; facts = ((Rel relation.Le (Number (pos 1)) (Var 0 sort.Int)) ∷ (Rel relation.Le (Var 0 sort.Int) (Number (pos 9))) ∷ []); locals = ((name_n0, (Of unary.Vi (Var 0 sort.Int))) ∷ []); items = ([]) }); post = (record { opened = []; facts = ([]); locals = []; items = ([]) }) }) ∷ (record { is_void = false; name = name_main; params = ([]); vars = []; pre = (record { opened = []; facts = ([]); locals = []; items = ([]) }); post = (record { opened = []; facts = ((Rel relation.Eq (Var 0 sort.Val) (Of unary.Vi (Number (pos 0)))) ∷ []); locals = []; items = ([]) }) }) ∷ []) }) (record { is_void = false; name = name_f; params = (name_n0 ∷ []); vars = ((name_a0, sort.Int) ∷ []); pre = (record { opened = []; facts = ((Rel relation.Le (Number (pos 1)) (Var 0 sort.Int)) ∷ (Rel relation.Le (Var 0 sort.Int) (Number (pos 9))) ∷ []); locals = ((name_n0, (Of unary.Vi (Var 0 sort.Int))) ∷ []); items = ([]) }); post = (record { opened = []; facts = ([]); locals = []; items = ([]) }) }) (record { temps = (name_n0 ∷ name_s ∷ name_t ∷ name_i ∷ name_x1 ∷ name_d0 ∷ name_p1 ∷ name_q1 ∷ []); body = (c.Then (c.Set 1 (c.Const 1)) (c.Then (c.Set 2 (c.Const 2)) (c.Then (c.Set 4 (c.Const 0)) (c.Then (c.Set 3 (c.Const 0)) (c.Then (c.Loop (c.Then (c.If (c.Nonzero kind.Signed (c.Binary two.Lt kind.Signed (c.Temp 3) (c.Const 1))) (c.Then (c.Set 4 (c.Binary two.Add kind.Unsigned (c.Temp 4) (c.Const 2))) (c.Then (c.Set 3 (c.Binary two.Add kind.Signed (c.Temp 3) (c.Const 1))) (c.Then c.Skip c.End))) (c.Then c.Break c.End)) c.End)) (c.Then (c.Set 1 (c.Binary two.Add kind.Signed (c.Temp 0) (c.Const 2))) (c.Then (c.Set 1 (c.Binary two.Add kind.Signed (c.Const 1) (c.Const 1))) (c.Then (c.Call (Some 2) name_pos ((c.Temp 1) ∷ [])) (c.Then (c.Return (Some (c.Const 0))) c.End))))))))) }) (s.Then 1 (s.Set ([]) ([])) s.NoBlock (s.Then 2 (s.Set ([]) ([])) s.NoBlock (s.Then 3 (s.Set ([]) ([])) s.NoBlock (s.Then 4 (s.Set ([]) ([])) s.NoBlock (s.Then 5 (s.While (record { opened = (sort.Int ∷ sort.Int ∷ []); facts = ((Rel relation.Le (Number (pos 0)) (Var 0 sort.Int)) ∷ (Rel relation.Le (Var 0 sort.Int) (Number (pos 1))) ∷ []); locals = ((name_n0, (Of unary.Vi (Named name_a0))) ∷ (name_i1, (Of unary.Vi (Number (pos 1)))) ∷ (name_t, (Of unary.Vi (Number (pos 2)))) ∷ (name_i, (Of unary.Vi (Var 0 sort.Int))) ∷ (name_x1, (Of unary.Vi (Var 1 sort.Int))) ∷ []); items = ([]) }) (record { opened = (sort.Int ∷ sort.Int ∷ []); facts = ((Rel relation.Le (Number (pos 0)) (Var 0 sort.Int)) ∷ (Rel relation.Le (Var 0 sort.Int) (Number (pos 1))) ∷ (Rel relation.Le (Number (pos 1)) (Var 0 sort.Int)) ∷ []); locals = ((name_n0, (Of unary.Vi (Named name_a0))) ∷ (name_s, (Of unary.Vi (Number (pos 1)))) ∷ (name_t, (Of unary.Vi (Number (pos 2)))) ∷ (name_i, (Of unary.Vi (Var 0 sort.Int))) ∷ (name_x1, (Of unary.Vi (Var 1 sort.Int))) ∷ []); items = ([]) }) (name_k3 ∷ name_k4 ∷ []) ([]) (name_k1 ∷ name_k2 ∷ [])) (s.WithBlock (s.Then 6 (s.Meet ((Number (pos 0)) ∷ (Number (pos 0)) ∷ []) ([])) s.NoBlock s.End) (s.WithBlock (s.Then 7 (s.If ([]) ((record { lines = ((line.Comb (((pos 1), 2) ∷ ((pos 1), 4) ∷ [])) ∷ []) }) ∷ (record { lines = ((line.Comb (((pos 1), 3) ∷ ((pos 1), 4) ∷ [])) ∷ []) }) ∷ []) ([]) ([])) (s.WithBlock (s.Then 8 (s.Law name_band_hi ((Number (pos 1)) ∷ (Number (pos 7)) ∷ []) ([])) s.NoBlock (s.Then 9 (s.Set ([]) ([])) s.NoBlock (s.Then 10 (s.Set ([]) ((record { lines = ((line.Comb (((pos 1), 2) ∷ ((pos 1), 6) ∷ [])) ∷ []) }) ∷ (record { lines = ((line.Comb (((pos 1), 3) ∷ ((pos 1), 6) ∷ [])) ∷ []) }) ∷ (record { lines = ((line.Comb (((pos 1), 2) ∷ ((pos 1), 6) ∷ [])) ∷ []) }) ∷ (record { lines = ((line.Comb (((pos 1), 3) ∷ ((pos 1), 6) ∷ [])) ∷ []) }) ∷ [])) s.NoBlock (s.Then 11 s.Skip s.NoBlock (s.Then 12 (s.Fall ((Of2 binary.Add (Named name_k1) (Number (pos 1))) ∷ (Of2 binary.Add (Named name_k2) (Number (pos 2))) ∷ []) ((record { lines = ((line.Comb (((pos 1), 2) ∷ ((pos 1), 6) ∷ [])) ∷ []) }) ∷ [])) s.NoBlock s.End))))) (s.WithBlock (s.Then 13 (s.Break ((Named name_k1) ∷ (Named name_k2) ∷ []) ([])) s.NoBlock s.End) s.NoBlock)) s.End) s.NoBlock)) (s.Then 14 (s.Set ([]) ((record { lines = ((line.Comb (((pos 1), 0) ∷ ((pos 1), 5) ∷ [])) ∷ []) }) ∷ (record { lines = ((line.Comb (((pos 1), 1) ∷ ((pos 1), 5) ∷ [])) ∷ []) }) ∷ (record { lines = ((line.Comb (((pos 1), 0) ∷ ((pos 1), 5) ∷ [])) ∷ []) }) ∷ (record { lines = ((line.Comb (((pos 1), 1) ∷ ((pos 1), 5) ∷ [])) ∷ []) }) ∷ [])) s.NoBlock (s.Then 15 (s.Set ([]) ([])) s.NoBlock (s.Then 16 (s.Call ((Number (pos 2)) ∷ []) ([]) ([]) (name_k5 ∷ name_k6 ∷ [])) s.NoBlock (s.Then 17 (s.Return ([]) ([]) ([])) s.NoBlock s.End))))))))) ≡ (RefusedAt 5 6 4)
unfolding computing
random_443 = refl

random_444 : body_verdict (record { predicates = ([]); specs = ((record { is_void = false; name = name_pos; params = (name_n ∷ []); vars = ((name_a, sort.Int) ∷ []); pre = (record { opened = []; facts = ((Rel relation.Le (Number (pos 0)) (Var 0 sort.Int)) ∷ (Rel relation.Le (Var 0 sort.Int) (Number (pos 100))) ∷ []); locals = ((name_n, (Of unary.Vi (Var 0 sort.Int))) ∷ []); items = ([]) }); post = (record { opened = (sort.Int ∷ []); facts = ((Rel relation.Eq (Var 1 sort.Val) (Of unary.Vi (Var 2 sort.Int))) ∷ (Rel relation.Le (Number (pos 0)) (Var 2 sort.Int)) ∷ (Rel relation.Le (Var 2 sort.Int) (Var 0 sort.Int)) ∷ []); locals = []; items = ([]) }) }) ∷ (record { is_void = false; name = name_f; params = (name_n0 ∷ []); vars = ((name_a0, sort.Int) ∷ []); pre = (record { opened = []; facts = ((Rel relation.Le (Number (pos 1)) (Var 0 sort.Int)) ∷ (Rel relation.Le (Var 0 sort.Int) (Number (pos 9))) ∷ []); locals = ((name_n0, (Of unary.Vi (Var 0 sort.Int))) ∷ []); items = ([]) }); post = (record { opened = []; facts = ([]); locals = []; items = ([]) }) }) ∷ (record { is_void = false; name = name_main; params = ([]); vars = []; pre = (record { opened = []; facts = ([]); locals = []; items = ([]) }); post = (record { opened = []; facts = ((Rel relation.Eq (Var 0 sort.Val) (Of unary.Vi (Number (pos 0)))) ∷ []); locals = []; items = ([]) }) }) ∷ []) }) (record { is_void = false; name = name_f; params = (name_n0 ∷ []); vars = ((name_a0, sort.Int) ∷ []); pre = (record { opened = []; facts = ((Rel relation.Le (Number (pos 1)) (Var 0 sort.Int)) ∷ (Rel relation.Le (Var 0 sort.Int) (Number (pos 9))) ∷ []); locals = ((name_n0, (Of unary.Vi (Var 0 sort.Int))) ∷ []); items = ([]) }); post = (record { opened = []; facts = ([]); locals = []; items = ([]) }) }) (record { temps = (name_n0 ∷ name_s ∷ name_t ∷ name_i ∷ name_x1 ∷ name_d0 ∷ name_p1 ∷ name_q1 ∷ []); body = (c.Then (c.Set 1 (c.Const 1)) (c.Then (c.Set 2 (c.Const 2)) (c.Then (c.Set 4 (c.Const 0)) (c.Then (c.Set 3 (c.Const 0)) (c.Then (c.Loop (c.Then (c.If (c.Nonzero kind.Signed (c.Binary two.Lt kind.Signed (c.Temp 3) (c.Const 1))) (c.Then (c.Set 4 (c.Binary two.Add kind.Unsigned (c.Temp 4) (c.Const 2))) (c.Then (c.Set 3 (c.Binary two.Add kind.Signed (c.Temp 3) (c.Const 1))) (c.Then c.Skip c.End))) (c.Then c.Break c.End)) c.End)) (c.Then (c.Set 1 (c.Binary two.Add kind.Signed (c.Temp 0) (c.Const 2))) (c.Then (c.Set 1 (c.Binary two.Add kind.Signed (c.Const 1) (c.Const 1))) (c.Then (c.Call (Some 2) name_pos ((c.Temp 1) ∷ [])) (c.Then (c.Return (Some (c.Const 0))) c.End))))))))) }) (s.Then 1 (s.Set ([]) ([])) s.NoBlock (s.Then 2 (s.Set ([]) ([])) s.NoBlock (s.Then 3 (s.Set ([]) ([])) s.NoBlock (s.Then 4 (s.Set ([]) ([])) s.NoBlock (s.Then 5 (s.While (record { opened = (sort.Int ∷ sort.Int ∷ []); facts = ((Rel relation.Le (Number (pos 0)) (Var 0 sort.Int)) ∷ (Rel relation.Le (Var 0 sort.Int) (Number (pos 1))) ∷ []); locals = ((name_n0, (Of unary.Vi (Named name_a0))) ∷ (name_s, (Of unary.Vi (Number (pos 1)))) ∷ (name_t, (Of unary.Vi (Number (pos 2)))) ∷ (name_i, (Of unary.Vi (Var 0 sort.Int))) ∷ (name_x1, (Of unary.Vi (Var 1 sort.Int))) ∷ []); items = ([]) }) (record { opened = (sort.Int ∷ sort.Int ∷ []); facts = ((Rel relation.Le (Number (pos 0)) (Var 0 sort.Int)) ∷ (Rel relation.Le (Var 0 sort.Int) (Number (pos 1))) ∷ (Rel relation.Le (Number (pos 1)) (Var 0 sort.Int)) ∷ []); locals = ((name_n0, (Of unary.Vi (Named name_a0))) ∷ (name_s, (Of unary.Vi (Number (pos 1)))) ∷ (name_i0, (Of unary.Vi (Number (pos 2)))) ∷ (name_i, (Of unary.Vi (Var 0 sort.Int))) ∷ (name_x1, (Of unary.Vi (Var 1 sort.Int))) ∷ []); items = ([]) }) (name_k3 ∷ name_k4 ∷ []) ([]) (name_k1 ∷ name_k2 ∷ [])) (s.WithBlock (s.Then 6 (s.Meet ((Number (pos 0)) ∷ (Number (pos 0)) ∷ []) ([])) s.NoBlock s.End) (s.WithBlock (s.Then 7 (s.If ([]) ((record { lines = ((line.Comb (((pos 1), 2) ∷ ((pos 1), 4) ∷ [])) ∷ []) }) ∷ (record { lines = ((line.Comb (((pos 1), 3) ∷ ((pos 1), 4) ∷ [])) ∷ []) }) ∷ []) ([]) ([])) (s.WithBlock (s.Then 8 (s.Law name_band_hi ((Number (pos 1)) ∷ (Number (pos 7)) ∷ []) ([])) s.NoBlock (s.Then 9 (s.Set ([]) ([])) s.NoBlock (s.Then 10 (s.Set ([]) ((record { lines = ((line.Comb (((pos 1), 2) ∷ ((pos 1), 6) ∷ [])) ∷ []) }) ∷ (record { lines = ((line.Comb (((pos 1), 3) ∷ ((pos 1), 6) ∷ [])) ∷ []) }) ∷ (record { lines = ((line.Comb (((pos 1), 2) ∷ ((pos 1), 6) ∷ [])) ∷ []) }) ∷ (record { lines = ((line.Comb (((pos 1), 3) ∷ ((pos 1), 6) ∷ [])) ∷ []) }) ∷ [])) s.NoBlock (s.Then 11 s.Skip s.NoBlock (s.Then 12 (s.Fall ((Of2 binary.Add (Named name_k1) (Number (pos 1))) ∷ (Of2 binary.Add (Named name_k2) (Number (pos 2))) ∷ []) ((record { lines = ((line.Comb (((pos 1), 2) ∷ ((pos 1), 6) ∷ [])) ∷ []) }) ∷ [])) s.NoBlock s.End))))) (s.WithBlock (s.Then 13 (s.Break ((Named name_k1) ∷ (Named name_k2) ∷ []) ([])) s.NoBlock s.End) s.NoBlock)) s.End) s.NoBlock)) (s.Then 14 (s.Set ([]) ((record { lines = ((line.Comb (((pos 1), 0) ∷ ((pos 1), 5) ∷ [])) ∷ []) }) ∷ (record { lines = ((line.Comb (((pos 1), 1) ∷ ((pos 1), 5) ∷ [])) ∷ []) }) ∷ (record { lines = ((line.Comb (((pos 1), 0) ∷ ((pos 1), 5) ∷ [])) ∷ []) }) ∷ (record { lines = ((line.Comb (((pos 1), 1) ∷ ((pos 1), 5) ∷ [])) ∷ []) }) ∷ [])) s.NoBlock (s.Then 15 (s.Set ([]) ([])) s.NoBlock (s.Then 16 (s.Call ((Number (pos 2)) ∷ []) ([]) ([]) (name_k5 ∷ name_k6 ∷ [])) s.NoBlock (s.Then 17 (s.Return ([]) ([]) ([])) s.NoBlock s.End))))))))) ≡ (RefusedAt 5 6 4)
unfolding computing
random_444 = refl

random_445 : body_verdict (record { predicates = ([]); specs = ((record { is_void = false; name = name_pos; params = (name_n ∷ []); vars = ((name_a, sort.Int) ∷ []); pre = (record { opened = []; facts = ((Rel relation.Le (Number (pos 0)) (Var 0 sort.Int)) ∷ (Rel relation.Le (Var 0 sort.Int) (Number (pos 100))) ∷ []); locals = ((name_n, (Of unary.Vi (Var 0 sort.Int))) ∷ []); items = ([]) }); post = (record { opened = (sort.Int ∷ []); facts = ((Rel relation.Eq (Var 1 sort.Val) (Of unary.Vi (Var 2 sort.Int))) ∷ (Rel relation.Le (Number (pos 0)) (Var 2 sort.Int)) ∷ (Rel relation.Le (Var 2 sort.Int) (Var 0 sort.Int)) ∷ []); locals = []; items = ([]) }) }) ∷ (record { is_void = false; name = name_f; params = (name_n0 ∷ []); vars = ((name_a0, sort.Int) ∷ []); pre = (record { opened = []; facts = ((Rel relation.Le (Number (pos 1)) (Var 0 sort.Int)) ∷ (Rel relation.Le (Var 0 sort.Int) (Number (pos 9))) ∷ []); locals = ((name_n0, (Of unary.Vi (Var 0 sort.Int))) ∷ []); items = ([]) }); post = (record { opened = []; facts = ([]); locals = []; items = ([]) }) }) ∷ (record { is_void = false; name = name_main; params = ([]); vars = []; pre = (record { opened = []; facts = ([]); locals = []; items = ([]) }); post = (record { opened = []; facts = ((Rel relation.Eq (Var 0 sort.Val) (Of unary.Vi (Number (pos 0)))) ∷ []); locals = []; items = ([]) }) }) ∷ []) }) (record { is_void = false; name = name_f; params = (name_n0 ∷ []); vars = ((name_a0, sort.Int) ∷ []); pre = (record { opened = []; facts = ((Rel relation.Le (Number (pos 1)) (Var 0 sort.Int)) ∷ (Rel relation.Le (Var 0 sort.Int) (Number (pos 9))) ∷ []); locals = ((name_n0, (Of unary.Vi (Var 0 sort.Int))) ∷ []); items = ([]) }); post = (record { opened = []; facts = ([]); locals = []; items = ([]) }) }) (record { temps = (name_n0 ∷ name_s ∷ name_t ∷ name_i ∷ name_x1 ∷ name_d0 ∷ name_p1 ∷ name_q1 ∷ []); body = (c.Then (c.Set 1 (c.Const 1)) (c.Then (c.Set 2 (c.Const 2)) (c.Then (c.Set 4 (c.Const 0)) (c.Then (c.Set 3 (c.Const 0)) (c.Then (c.Loop (c.Then (c.If (c.Nonzero kind.Signed (c.Binary two.Lt kind.Signed (c.Temp 3) (c.Const 1))) (c.Then (c.Set 4 (c.Binary two.Add kind.Unsigned (c.Temp 4) (c.Const 2))) (c.Then (c.Set 3 (c.Binary two.Add kind.Signed (c.Temp 3) (c.Const 1))) (c.Then c.Skip c.End))) (c.Then c.Break c.End)) c.End)) (c.Then (c.Set 1 (c.Binary two.Add kind.Signed (c.Temp 0) (c.Const 2))) (c.Then (c.Set 1 (c.Binary two.Add kind.Signed (c.Const 1) (c.Const 1))) (c.Then (c.Call (Some 2) name_pos ((c.Temp 1) ∷ [])) (c.Then (c.Return (Some (c.Const 0))) c.End))))))))) }) (s.Then 1 (s.Set ([]) ([])) s.NoBlock (s.Then 2 (s.Set ([]) ([])) s.NoBlock (s.Then 3 (s.Set ([]) ([])) s.NoBlock (s.Then 4 (s.Set ([]) ([])) s.NoBlock (s.Then 5 (s.While (record { opened = (sort.Int ∷ sort.Int ∷ []); facts = ((Rel relation.Le (Number (pos 0)) (Var 0 sort.Int)) ∷ (Rel relation.Le (Var 0 sort.Int) (Number (pos 1))) ∷ []); locals = ((name_n0, (Of unary.Vi (Named name_a0))) ∷ (name_s, (Of unary.Vi (Number (pos 1)))) ∷ (name_t, (Of unary.Vi (Number (pos 2)))) ∷ (name_i, (Of unary.Vi (Var 0 sort.Int))) ∷ (name_x1, (Of unary.Vi (Var 1 sort.Int))) ∷ []); items = ([]) }) (record { opened = (sort.Int ∷ sort.Int ∷ []); facts = ((Rel relation.Le (Number (pos 32)) (Var 0 sort.Int)) ∷ (Rel relation.Le (Var 0 sort.Int) (Number (pos 1))) ∷ (Rel relation.Le (Number (pos 1)) (Var 0 sort.Int)) ∷ []); locals = ((name_n0, (Of unary.Vi (Named name_a0))) ∷ (name_s, (Of unary.Vi (Number (pos 1)))) ∷ (name_t, (Of unary.Vi (Number (pos 2)))) ∷ (name_i, (Of unary.Vi (Var 0 sort.Int))) ∷ (name_x1, (Of unary.Vi (Var 1 sort.Int))) ∷ []); items = ([]) }) (name_k3 ∷ name_k4 ∷ []) ([]) (name_k1 ∷ name_k2 ∷ [])) (s.WithBlock (s.Then 6 (s.Meet ((Number (pos 0)) ∷ (Number (pos 0)) ∷ []) ([])) s.NoBlock s.End) (s.WithBlock (s.Then 7 (s.If ([]) ((record { lines = ((line.Comb (((pos 1), 2) ∷ ((pos 1), 4) ∷ [])) ∷ []) }) ∷ (record { lines = ((line.Comb (((pos 1), 3) ∷ ((pos 1), 4) ∷ [])) ∷ []) }) ∷ []) ([]) ([])) (s.WithBlock (s.Then 8 (s.Law name_band_hi ((Number (pos 1)) ∷ (Number (pos 7)) ∷ []) ([])) s.NoBlock (s.Then 9 (s.Set ([]) ([])) s.NoBlock (s.Then 10 (s.Set ([]) ((record { lines = ((line.Comb (((pos 1), 2) ∷ ((pos 1), 6) ∷ [])) ∷ []) }) ∷ (record { lines = ((line.Comb (((pos 1), 3) ∷ ((pos 1), 6) ∷ [])) ∷ []) }) ∷ (record { lines = ((line.Comb (((pos 1), 2) ∷ ((pos 1), 6) ∷ [])) ∷ []) }) ∷ (record { lines = ((line.Comb (((pos 1), 3) ∷ ((pos 1), 6) ∷ [])) ∷ []) }) ∷ [])) s.NoBlock (s.Then 11 s.Skip s.NoBlock (s.Then 12 (s.Fall ((Of2 binary.Add (Named name_k1) (Number (pos 1))) ∷ (Of2 binary.Add (Named name_k2) (Number (pos 2))) ∷ []) ((record { lines = ((line.Comb (((pos 1), 2) ∷ ((pos 1), 6) ∷ [])) ∷ []) }) ∷ [])) s.NoBlock s.End))))) (s.WithBlock (s.Then 13 (s.Break ((Named name_k1) ∷ (Named name_k2) ∷ []) ([])) s.NoBlock s.End) s.NoBlock)) s.End) s.NoBlock)) (s.Then 14 (s.Set ([]) ((record { lines = ((line.Comb (((pos 1), 0) ∷ ((pos 1), 5) ∷ [])) ∷ []) }) ∷ (record { lines = ((line.Comb (((pos 1), 1) ∷ ((pos 1), 5) ∷ [])) ∷ []) }) ∷ (record { lines = ((line.Comb (((pos 1), 0) ∷ ((pos 1), 5) ∷ [])) ∷ []) }) ∷ (record { lines = ((line.Comb (((pos 1), 1) ∷ ((pos 1), 5) ∷ [])) ∷ []) }) ∷ [])) s.NoBlock (s.Then 15 (s.Set ([]) ([])) s.NoBlock (s.Then 16 (s.Call ((Number (pos 2)) ∷ []) ([]) ([]) (name_k5 ∷ name_k6 ∷ [])) s.NoBlock (s.Then 17 (s.Return ([]) ([]) ([])) s.NoBlock s.End))))))))) ≡ (RefusedAt 13 7 3)
unfolding computing
random_445 = refl

random_446 : body_verdict (record { predicates = ([]); specs = ((record { is_void = false; name = name_pos; params = (name_n ∷ []); vars = ((name_a, sort.Int) ∷ []); pre = (record { opened = []; facts = ((Rel relation.Le (Number (pos 0)) (Var 0 sort.Int)) ∷ (Rel relation.Le (Var 0 sort.Int) (Number (pos 100))) ∷ []); locals = ((name_n, (Of unary.Vi (Var 0 sort.Int))) ∷ []); items = ([]) }); post = (record { opened = (sort.Int ∷ []); facts = ((Rel relation.Eq (Var 1 sort.Val) (Of unary.Vi (Var 2 sort.Int))) ∷ (Rel relation.Le (Number (pos 0)) (Var 2 sort.Int)) ∷ (Rel relation.Le (Var 2 sort.Int) (Var 0 sort.Int)) ∷ []); locals = []; items = ([]) }) }) ∷ (record { is_void = false; name = name_main; params = ([]); vars = []; pre = (record { opened = []; facts = ([]); locals = []; items = ([]) }); post = (record { opened = []; facts = ((Rel relation.Eq (Var 0 sort.Val) (Of unary.Vi (Number (pos 7)))) ∷ []); locals = []; items = ([]) }) }) ∷ []) }) (record { is_void = false; name = name_main; params = ([]); vars = []; pre = (record { opened = []; facts = ([]); locals = []; items = ([]) }); post = (record { opened = []; facts = ((Rel relation.Eq (Var 0 sort.Val) (Of unary.Vi (Number (pos 7)))) ∷ []); locals = []; items = ([]) }) }) (record { temps = (name_s ∷ name_t ∷ name_i ∷ name_x1 ∷ name_d0 ∷ name_p1 ∷ name_q1 ∷ []); body = (c.Then (c.Set 0 (c.Const 1)) (c.Then (c.Set 1 (c.Const 2)) (c.Then (c.Call (Some 1) name_pos ((c.Const 1) ∷ [])) (c.Then (c.Return (Some (c.Const 7))) c.End)))) }) (s.Then 1 (s.Set ([]) ([])) s.NoBlock (s.Then 2 (s.Set ([]) ([])) s.NoBlock (s.Then 3 (s.Call ((Number (pos 1)) ∷ []) ([]) ([]) (name_k1 ∷ name_k2 ∷ [])) s.NoBlock s.End))) ≡ (RefusedAt 4 0 10)
unfolding computing
random_446 = refl

random_447 : body_verdict (record { predicates = ([]); specs = ((record { is_void = false; name = name_pos; params = (name_n ∷ []); vars = ((name_a, sort.Int) ∷ []); pre = (record { opened = []; facts = ((Rel relation.Le (Number (pos 0)) (Var 0 sort.Int)) ∷ (Rel relation.Le (Var 0 sort.Int) (Number (pos 100))) ∷ []); locals = ((name_n, (Of unary.Vi (Var 0 sort.Int))) ∷ []); items = ([]) }); post = (record { opened = (sort.Int ∷ []); facts = ((Rel relation.Eq (Var 1 sort.Val) (Of unary.Vi (Var 2 sort.Int))) ∷ (Rel relation.Le (Number (pos 0)) (Var 2 sort.Int)) ∷ (Rel relation.Le (Var 2 sort.Int) (Var 0 sort.Int)) ∷ []); locals = []; items = ([]) }) }) ∷ (record { is_void = false; name = name_main; params = ([]); vars = []; pre = (record { opened = []; facts = ([]); locals = []; items = ([]) }); post = (record { opened = []; facts = ((Rel relation.Eq (Var 0 sort.Val) (Of unary.Vi (Number (pos 7)))) ∷ []); locals = []; items = ([]) }) }) ∷ []) }) (record { is_void = false; name = name_main; params = ([]); vars = []; pre = (record { opened = []; facts = ([]); locals = []; items = ([]) }); post = (record { opened = []; facts = ((Rel relation.Eq (Var 0 sort.Val) (Of unary.Vi (Number (pos 7)))) ∷ []); locals = []; items = ([]) }) }) (record { temps = (name_s ∷ name_t ∷ name_i ∷ name_x1 ∷ name_d0 ∷ name_p1 ∷ name_q1 ∷ []); body = (c.Then (c.Set 0 (c.Const 1)) (c.Then (c.Set 1 (c.Const 2)) (c.Then (c.Call (Some 1) name_pos ((c.Const 1) ∷ [])) (c.Then (c.Return (Some (c.Const 7))) c.End)))) }) (s.Then 1 (s.Set ([]) ([])) s.NoBlock (s.Then 2 (s.Call ((Number (pos 1)) ∷ []) ([]) ([]) (name_k1 ∷ name_k2 ∷ [])) s.NoBlock (s.Then 3 (s.Set ([]) ([])) s.NoBlock (s.Then 4 (s.Return ([]) ([]) ([])) s.NoBlock s.End)))) ≡ (RefusedAt 2 13 1)
unfolding computing
random_447 = refl

random_448 : body_verdict (record { predicates = ([]); specs = ((record { is_void = false; name = name_pos; params = (name_n ∷ []); vars = ((name_a, sort.Int) ∷ []); pre = (record { opened = []; facts = ((Rel relation.Le (Number (pos 0)) (Var 0 sort.Int)) ∷ (Rel relation.Le (Var 0 sort.Int) (Number (pos 100))) ∷ []); locals = ((name_n, (Of unary.Vi (Var 0 sort.Int))) ∷ []); items = ([]) }); post = (record { opened = (sort.Int ∷ []); facts = ((Rel relation.Eq (Var 1 sort.Val) (Of unary.Vi (Var 2 sort.Int))) ∷ (Rel relation.Le (Number (pos 0)) (Var 2 sort.Int)) ∷ (Rel relation.Le (Var 2 sort.Int) (Var 0 sort.Int)) ∷ []); locals = []; items = ([]) }) }) ∷ (record { is_void = false; name = name_main; params = ([]); vars = []; pre = (record { opened = []; facts = ([]); locals = []; items = ([]) }); post = (record { opened = []; facts = ((Rel relation.Eq (Var 0 sort.Val) (Of unary.Vi (Number (pos 7)))) ∷ []); locals = []; items = ([]) }) }) ∷ []) }) (record { is_void = false; name = name_main; params = ([]); vars = []; pre = (record { opened = []; facts = ([]); locals = []; items = ([]) }); post = (record { opened = []; facts = ((Rel relation.Eq (Var 0 sort.Val) (Of unary.Vi (Number (pos 7)))) ∷ []); locals = []; items = ([]) }) }) (record { temps = (name_s ∷ name_t ∷ name_i ∷ name_x1 ∷ name_d0 ∷ name_p1 ∷ name_q1 ∷ []); body = (c.Then (c.Set 0 (c.Const 1)) (c.Then (c.Set 1 (c.Const 2)) (c.Then (c.Call (Some 1) name_pos ((c.Const 1) ∷ [])) (c.Then (c.Return (Some (c.Const 7))) c.End)))) }) (s.Then 1 (s.Set ([]) ([])) s.NoBlock (s.Then 2 (s.Call ((Number (pos 1)) ∷ []) ([]) ([]) (name_k1 ∷ name_k2 ∷ [])) s.NoBlock (s.Then 3 (s.Return ([]) ([]) ([])) s.NoBlock s.End))) ≡ (RefusedAt 2 13 1)
unfolding computing
random_448 = refl

random_449 : body_verdict (record { predicates = ([]); specs = ((record { is_void = false; name = name_pos; params = (name_n ∷ []); vars = ((name_a, sort.Int) ∷ []); pre = (record { opened = []; facts = ((Rel relation.Le (Number (pos 0)) (Var 0 sort.Int)) ∷ (Rel relation.Le (Var 0 sort.Int) (Number (pos 100))) ∷ []); locals = ((name_n, (Of unary.Vi (Var 0 sort.Int))) ∷ []); items = ([]) }); post = (record { opened = (sort.Int ∷ []); facts = ((Rel relation.Eq (Var 1 sort.Val) (Of unary.Vi (Var 2 sort.Int))) ∷ (Rel relation.Le (Number (pos 0)) (Var 2 sort.Int)) ∷ (Rel relation.Le (Var 2 sort.Int) (Var 0 sort.Int)) ∷ []); locals = []; items = ([]) }) }) ∷ (record { is_void = false; name = name_main; params = ([]); vars = []; pre = (record { opened = []; facts = ([]); locals = []; items = ([]) }); post = (record { opened = []; facts = ((Rel relation.Eq (Var 0 sort.Val) (Of unary.Vi (Number (pos 7)))) ∷ []); locals = []; items = ([]) }) }) ∷ []) }) (record { is_void = false; name = name_main; params = ([]); vars = []; pre = (record { opened = []; facts = ([]); locals = []; items = ([]) }); post = (record { opened = []; facts = ((Rel relation.Eq (Var 0 sort.Val) (Of unary.Vi (Number (pos 7)))) ∷ []); locals = []; items = ([]) }) }) (record { temps = (name_s ∷ name_t ∷ name_i ∷ name_x1 ∷ name_d0 ∷ name_p1 ∷ name_q1 ∷ []); body = (c.Then (c.Set 0 (c.Const 1)) (c.Then (c.Set 1 (c.Const 2)) (c.Then (c.Call (Some 1) name_pos ((c.Const 1) ∷ [])) (c.Then (c.Return (Some (c.Const 7))) c.End)))) }) (s.Then 1 (s.Set ([]) ([])) s.NoBlock (s.Then 2 (s.Set ([]) ([])) s.NoBlock (s.Then 3 (s.Call ((Number (pos 1)) ∷ []) ([]) ([]) (name_k1 ∷ name_k2 ∷ [])) s.NoBlock (s.Then 4 (s.Call ([]) ([]) ([]) ([])) s.NoBlock s.End)))) ≡ (RefusedAt 4 13 1)
unfolding computing
random_449 = refl

random_450 : body_verdict (record { predicates = ([]); specs = ((record { is_void = false; name = name_pos; params = (name_n ∷ []); vars = ((name_a, sort.Int) ∷ []); pre = (record { opened = []; facts = ((Rel relation.Le (Number (pos 0)) (Var 0 sort.Int)) ∷ (Rel relation.Le (Var 0 sort.Int) (Number (pos 100))) ∷ []); locals = ((name_n, (Of unary.Vi (Var 0 sort.Int))) ∷ []); items = ([]) }); post = (record { opened = (sort.Int ∷ []); facts = ((Rel relation.Eq (Var 1 sort.Val) (Of unary.Vi (Var 2 sort.Int))) ∷ (Rel relation.Le (Number (pos 0)) (Var 2 sort.Int)) ∷ (Rel relation.Le (Var 2 sort.Int) (Var 0 sort.Int)) ∷ []); locals = []; items = ([]) }) }) ∷ (record { is_void = false; name = name_main; params = ([]); vars = []; pre = (record { opened = []; facts = ([]); locals = []; items = ([]) }); post = (record { opened = []; facts = ((Rel relation.Eq (Var 0 sort.Val) (Of unary.Vi (Number (pos 7)))) ∷ []); locals = []; items = ([]) }) }) ∷ []) }) (record { is_void = false; name = name_pos; params = (name_n ∷ []); vars = ((name_a, sort.Int) ∷ []); pre = (record { opened = []; facts = ((Rel relation.Le (Number (pos 0)) (Var 0 sort.Int)) ∷ (Rel relation.Le (Var 0 sort.Int) (Number (pos 100))) ∷ []); locals = ((name_n, (Of unary.Vi (Var 0 sort.Int))) ∷ []); items = ([]) }); post = (record { opened = (sort.Int ∷ []); facts = ((Rel relation.Eq (Var 1 sort.Val) (Of unary.Vi (Var 2 sort.Int))) ∷ (Rel relation.Le (Number (pos 0)) (Var 2 sort.Int)) ∷ (Rel relation.Le (Var 2 sort.Int) (Var 0 sort.Int)) ∷ []); locals = []; items = ([]) }) }) (record { temps = (name_n ∷ []); body = (c.Then (c.If (c.Nonzero kind.Signed (c.Binary two.Eq kind.Signed (c.Temp 0) (c.Const 0))) (c.Then (c.Return (Some (c.Temp 0))) c.End) c.End) (c.Then (c.Return (Some (c.Const 0))) c.End)) }) (s.Then 1 (s.If ([]) ((record { lines = ((line.Comb (((pos 1), 0) ∷ ((pos 1), 2) ∷ [])) ∷ []) }) ∷ (record { lines = ((line.Comb (((pos 1), 1) ∷ ((pos 1), 2) ∷ [])) ∷ []) }) ∷ []) ([]) ([])) (s.WithBlock s.End (s.WithBlock (s.Then 2 (s.Return ((Number (pos 0)) ∷ []) ([]) ([])) s.NoBlock s.End) s.NoBlock)) s.End) ≡ (RefusedAt 2 0 10)
unfolding computing
random_450 = refl

random_451 : body_verdict (record { predicates = ([]); specs = ((record { is_void = false; name = name_pos; params = (name_n ∷ []); vars = ((name_a, sort.Int) ∷ []); pre = (record { opened = []; facts = ((Rel relation.Le (Number (pos 0)) (Var 0 sort.Int)) ∷ (Rel relation.Le (Var 0 sort.Int) (Number (pos 100))) ∷ []); locals = ((name_n, (Of unary.Vi (Var 0 sort.Int))) ∷ []); items = ([]) }); post = (record { opened = (sort.Int ∷ []); facts = ((Rel relation.Eq (Var 1 sort.Val) (Of unary.Vi (Var 2 sort.Int))) ∷ (Rel relation.Le (Number (pos 0)) (Var 2 sort.Int)) ∷ (Rel relation.Le (Var 2 sort.Int) (Var 0 sort.Int)) ∷ []); locals = []; items = ([]) }) }) ∷ (record { is_void = false; name = name_main; params = ([]); vars = []; pre = (record { opened = []; facts = ([]); locals = []; items = ([]) }); post = (record { opened = []; facts = ((Rel relation.Eq (Var 0 sort.Val) (Of unary.Vi (Number (pos 7)))) ∷ []); locals = []; items = ([]) }) }) ∷ []) }) (record { is_void = false; name = name_main; params = ([]); vars = []; pre = (record { opened = []; facts = ([]); locals = []; items = ([]) }); post = (record { opened = []; facts = ((Rel relation.Eq (Var 0 sort.Val) (Of unary.Vi (Number (pos 7)))) ∷ []); locals = []; items = ([]) }) }) (record { temps = (name_s ∷ name_t ∷ name_i ∷ name_x1 ∷ name_d0 ∷ name_p1 ∷ name_q1 ∷ []); body = (c.Then (c.Set 0 (c.Const 1)) (c.Then (c.Set 1 (c.Const 2)) (c.Then (c.Call (Some 1) name_pos ((c.Const 1) ∷ [])) (c.Then (c.Return (Some (c.Const 7))) c.End)))) }) (s.Then 1 (s.Set ([]) ([])) s.NoBlock (s.Then 2 (s.Set ([]) ([])) s.NoBlock (s.Then 3 (s.Call ((Number (pos 1)) ∷ []) ([]) ([]) (name_k1 ∷ name_k2 ∷ [])) s.NoBlock (s.Then 4 (s.Return ([]) ([]) ([])) s.NoBlock (s.Then 5 (s.Return ([]) ([]) ([])) s.NoBlock s.End))))) ≡ (RefusedAt 5 0 11)
unfolding computing
random_451 = refl

random_452 : body_verdict (record { predicates = ([]); specs = ((record { is_void = false; name = name_pos; params = (name_n ∷ []); vars = ((name_a, sort.Int) ∷ []); pre = (record { opened = []; facts = ((Rel relation.Le (Number (pos 0)) (Var 0 sort.Int)) ∷ (Rel relation.Le (Var 0 sort.Int) (Number (pos 100))) ∷ []); locals = ((name_n, (Of unary.Vi (Var 0 sort.Int))) ∷ []); items = ([]) }); post = (record { opened = (sort.Int ∷ []); facts = ((Rel relation.Eq (Var 1 sort.Val) (Of unary.Vi (Var 2 sort.Int))) ∷ (Rel relation.Le (Number (pos 0)) (Var 2 sort.Int)) ∷ (Rel relation.Le (Var 2 sort.Int) (Var 0 sort.Int)) ∷ []); locals = []; items = ([]) }) }) ∷ (record { is_void = false; name = name_main; params = ([]); vars = []; pre = (record { opened = []; facts = ([]); locals = []; items = ([]) }); post = (record { opened = []; facts = ((Rel relation.Eq (Var 0 sort.Val) (Of unary.Vi (Number (pos 7)))) ∷ []); locals = []; items = ([]) }) }) ∷ []) }) (record { is_void = false; name = name_main; params = ([]); vars = []; pre = (record { opened = []; facts = ([]); locals = []; items = ([]) }); post = (record { opened = []; facts = ((Rel relation.Eq (Var 0 sort.Val) (Of unary.Vi (Number (pos 7)))) ∷ []); locals = []; items = ([]) }) }) (record { temps = (name_s ∷ name_t ∷ name_i ∷ name_x1 ∷ name_d0 ∷ name_p1 ∷ name_q1 ∷ []); body = (c.Then (c.Set 0 (c.Const 1)) (c.Then (c.Set 1 (c.Const 2)) (c.Then (c.Call (Some 1) name_pos ((c.Const 1) ∷ [])) (c.Then (c.Return (Some (c.Const 7))) c.End)))) }) (s.Then 1 (s.Set ([]) ([])) s.NoBlock (s.Then 2 (s.Set ([]) ([])) s.NoBlock (s.Then 3 (s.Pose (record { opened = []; facts = ([]); locals = ((name_zz, (Of unary.Vi (Number (pos 0)))) ∷ []); items = ([]) }) ([]) ([])) (s.WithBlock s.End s.NoBlock) (s.Then 4 (s.Return ([]) ([]) ([])) s.NoBlock s.End)))) ≡ (RefusedAt 3 12 4)
unfolding computing
random_452 = refl

random_453 : body_verdict (record { predicates = ((record { name = name_ov; args = ([]); cases = ((record { opened = (sort.Val ∷ []); facts = ([]); locals = []; items = ((Data (Number (pos 64)) (Global name_x) (Of2 binary.Cons (Var 0 sort.Val) Nil)) ∷ []) }) ∷ []) }) ∷ []); specs = ((record { is_void = false; name = name_get; params = (name_p ∷ []); vars = ((name_v, sort.Val) ∷ (name_w, sort.Val) ∷ (name_s, sort.Int) ∷ []); pre = (record { opened = []; facts = ((Rel relation.Le (Number (pos 1)) (Var 2 sort.Int)) ∷ []); locals = ((name_p, (Var 0 sort.Val)) ∷ []); items = ((Data (Var 2 sort.Int) (Var 0 sort.Val) (Of2 binary.Cons (Var 1 sort.Val) Nil)) ∷ []) }); post = (record { opened = []; facts = ((Rel relation.Eq (Var 3 sort.Val) (Var 1 sort.Val)) ∷ []); locals = []; items = ((Data (Var 2 sort.Int) (Var 0 sort.Val) (Of2 binary.Cons (Var 1 sort.Val) Nil)) ∷ []) }) }) ∷ (record { is_void = false; name = name_main; params = ([]); vars = []; pre = (record { opened = []; facts = ([]); locals = []; items = ((Data (Number (pos 64)) (Global name_arr) (Of2 binary.Cons (Of unary.Vi (Number (pos 1))) (Of2 binary.Cons (Of unary.Vi (Number (pos 2))) (Of2 binary.Cons (Of unary.Vi (Number (pos 0))) (Of2 binary.Cons (Of unary.Vi (Number (pos 0))) Nil))))) ∷ (Data (Number (pos 64)) (Global name_x) (Of2 binary.Cons (Of unary.Vi (Number (pos 3))) Nil)) ∷ (Data (Number (pos 64)) (Global name_g) (Of2 binary.Cons (Of unary.Vi (Number (pos 0))) Nil)) ∷ (Data (Number (pos 64)) (Global name_l) (Of2 binary.Cons (Of unary.Vi (Number (pos 0))) Nil)) ∷ []) }); post = (record { opened = (sort.List ∷ []); facts = ([]); locals = []; items = ((Data (Number (pos 64)) (Global name_arr) (Of2 binary.Cons (Of unary.Vi (Number (pos 1))) (Of2 binary.Cons (Of unary.Vi (Number (pos 2))) (Of2 binary.Cons (Of unary.Vi (Number (pos 0))) (Of2 binary.Cons (Of unary.Vi (Number (pos 0))) Nil))))) ∷ (Data (Number (pos 64)) (Global name_g) (Of2 binary.Cons (Of unary.Vi (Number (pos 3))) Nil)) ∷ (Data (Number (pos 64)) (Global name_x) (Var 1 sort.List)) ∷ (Data (Number (pos 64)) (Global name_l) (Of2 binary.Cons Undef Nil)) ∷ []) }) }) ∷ []) }) (record { is_void = false; name = name_main; params = ([]); vars = []; pre = (record { opened = []; facts = ([]); locals = []; items = ((Data (Number (pos 64)) (Global name_arr) (Of2 binary.Cons (Of unary.Vi (Number (pos 1))) (Of2 binary.Cons (Of unary.Vi (Number (pos 2))) (Of2 binary.Cons (Of unary.Vi (Number (pos 0))) (Of2 binary.Cons (Of unary.Vi (Number (pos 0))) Nil))))) ∷ (Data (Number (pos 64)) (Global name_x) (Of2 binary.Cons (Of unary.Vi (Number (pos 3))) Nil)) ∷ (Data (Number (pos 64)) (Global name_g) (Of2 binary.Cons (Of unary.Vi (Number (pos 0))) Nil)) ∷ (Data (Number (pos 64)) (Global name_l) (Of2 binary.Cons (Of unary.Vi (Number (pos 0))) Nil)) ∷ []) }); post = (record { opened = (sort.List ∷ []); facts = ([]); locals = []; items = ((Data (Number (pos 64)) (Global name_arr) (Of2 binary.Cons (Of unary.Vi (Number (pos 1))) (Of2 binary.Cons (Of unary.Vi (Number (pos 2))) (Of2 binary.Cons (Of unary.Vi (Number (pos 0))) (Of2 binary.Cons (Of unary.Vi (Number (pos 0))) Nil))))) ∷ (Data (Number (pos 64)) (Global name_g) (Of2 binary.Cons (Of unary.Vi (Number (pos 3))) Nil)) ∷ (Data (Number (pos 64)) (Global name_x) (Var 1 sort.List)) ∷ (Data (Number (pos 64)) (Global name_l) (Of2 binary.Cons Undef Nil)) ∷ []) }) }) (record { temps = (name_s ∷ name_t ∷ name_i ∷ name_x1 ∷ name_d0 ∷ name_p1 ∷ name_q1 ∷ []); body = (c.Then (c.Set 0 (c.Const 0)) (c.Then (c.Set 1 (c.Const 3)) (c.Then (c.OnLock lock.Make (c.Address (root.Global name_l 1) c.Here)) (c.Then (c.OnLock lock.Release (c.Address (root.Global name_l 1) c.Here)) (c.Then (c.Set 0 (c.Binary two.Eq kind.Signed (c.Temp 1) (c.Const 2))) (c.Then (c.Call (Some 0) name_get ((c.Address (root.Global name_g 1) c.Here) ∷ [])) (c.Then (c.Set 1 (c.Binary two.Add kind.Signed (c.Binary two.Sub kind.Signed (c.Temp 1) (c.Const 2)) (c.Const 2))) (c.Then (c.OnLock lock.Acquire (c.Address (root.Global name_l 1) c.Here)) (c.Then (c.Load 1 (root.Global name_x 1) c.Here) (c.Then (c.OnLock lock.Release (c.Address (root.Global name_l 1) c.Here)) (c.Then (c.OnLock lock.Acquire (c.Address (root.Global name_l 1) c.Here)) (c.Then (c.OnLock lock.Free (c.Address (root.Global name_l 1) c.Here)) (c.Then (c.Return (Some (c.Temp 0))) c.End))))))))))))) }) (s.Then 1 (s.Set ([]) ([])) s.NoBlock (s.Then 2 (s.Set ([]) ([])) s.NoBlock (s.Then 3 (s.MakeLock 3 (record { name = name_ov; args = ([]) }) ([]) ([])) s.NoBlock (s.Then 4 (s.Fold name_ov 0 ([]) ((Of unary.Vi (Number (pos 3))) ∷ []) ([])) s.NoBlock (s.Then 5 (s.Release 3 4 ([])) s.NoBlock (s.Then 6 (s.Set ([]) ([])) s.NoBlock (s.Then 7 (s.Call ((Global name_g) ∷ (Of unary.Vi (Number (pos 3))) ∷ (Number (pos 64)) ∷ []) ([]) ([]) (name_k1 ∷ [])) s.NoBlock (s.Then 8 (s.Set ([]) ([])) s.NoBlock (s.Then 9 (s.Acquire 1 ([])) s.NoBlock (s.Then 10 (s.Unfold 4 ((name_k2 ∷ []) ∷ [])) (s.WithBlock (s.Then 11 (s.Load 4 ([]) ([])) s.NoBlock (s.Then 12 (s.Fold name_ov 0 ([]) ((Named name_k2) ∷ []) ([])) s.NoBlock (s.Then 13 (s.Release 3 4 ([])) s.NoBlock (s.Then 14 (s.Acquire 1 ([])) s.NoBlock (s.Then 15 (s.Unfold 4 ((name_k3 ∷ []) ∷ [])) (s.WithBlock (s.Then 16 (s.FreeLock 1 3 ([]) ([])) s.NoBlock (s.Then 17 (s.Return ((Of2 binary.Cons (Named name_k3) Nil) ∷ []) ([]) ([])) s.NoBlock s.End)) s.NoBlock) s.End))))) s.NoBlock) s.End)))))))))) ≡ (RefusedAt 7 13 5)
unfolding computing
random_453 = refl

random_454 : body_verdict (record { predicates = ((record { name = name_ov; args = ([]); cases = ((record { opened = (sort.Val ∷ []); facts = ([]); locals = []; items = ((Data (Number (pos 64)) (Global name_x) (Of2 binary.Cons (Var 0 sort.Val) Nil)) ∷ []) }) ∷ []) }) ∷ []); specs = ((record { is_void = false; name = name_get; params = (name_p ∷ []); vars = ((name_v, sort.Val) ∷ (name_w, sort.Val) ∷ (name_s, sort.Int) ∷ []); pre = (record { opened = []; facts = ((Rel relation.Le (Number (pos 1)) (Var 2 sort.Int)) ∷ []); locals = ((name_p, (Var 0 sort.Val)) ∷ []); items = ((Data (Var 2 sort.Int) (Var 0 sort.Val) (Of2 binary.Cons (Var 1 sort.Val) Nil)) ∷ []) }); post = (record { opened = []; facts = ((Rel relation.Eq (Var 3 sort.Val) (Var 1 sort.Val)) ∷ []); locals = []; items = ((Data (Var 2 sort.Int) (Var 0 sort.Val) (Of2 binary.Cons (Var 1 sort.Val) Nil)) ∷ []) }) }) ∷ (record { is_void = false; name = name_main; params = ([]); vars = []; pre = (record { opened = []; facts = ([]); locals = []; items = ((Data (Number (pos 64)) (Global name_arr) (Of2 binary.Cons (Of unary.Vi (Number (pos 1))) (Of2 binary.Cons (Of unary.Vi (Number (pos 2))) (Of2 binary.Cons (Of unary.Vi (Number (pos 0))) (Of2 binary.Cons (Of unary.Vi (Number (pos 0))) Nil))))) ∷ (Data (Number (pos 64)) (Global name_x) (Of2 binary.Cons (Of unary.Vi (Number (pos 3))) Nil)) ∷ (Data (Number (pos 64)) (Global name_g) (Of2 binary.Cons (Of unary.Vi (Number (pos 3))) Nil)) ∷ (Data (Number (pos 64)) (Global name_l) (Of2 binary.Cons (Of unary.Vi (Number (pos 0))) Nil)) ∷ []) }); post = (record { opened = (sort.List ∷ []); facts = ([]); locals = []; items = ((Data (Number (pos 64)) (Global name_arr) (Of2 binary.Cons (Of unary.Vi (Number (pos 1))) (Of2 binary.Cons (Of unary.Vi (Number (pos 2))) (Of2 binary.Cons (Of unary.Vi (Number (pos 0))) (Of2 binary.Cons (Of unary.Vi (Number (pos 0))) Nil))))) ∷ (Data (Number (pos 64)) (Global name_g) (Of2 binary.Cons (Of unary.Vi (Number (pos 3))) Nil)) ∷ (Data (Number (pos 64)) (Global name_x) (Var 1 sort.List)) ∷ (Data (Number (pos 64)) (Global name_l) (Of2 binary.Cons Undef Nil)) ∷ []) }) }) ∷ []) }) (record { is_void = false; name = name_main; params = ([]); vars = []; pre = (record { opened = []; facts = ([]); locals = []; items = ((Data (Number (pos 64)) (Global name_arr) (Of2 binary.Cons (Of unary.Vi (Number (pos 1))) (Of2 binary.Cons (Of unary.Vi (Number (pos 2))) (Of2 binary.Cons (Of unary.Vi (Number (pos 0))) (Of2 binary.Cons (Of unary.Vi (Number (pos 0))) Nil))))) ∷ (Data (Number (pos 64)) (Global name_x) (Of2 binary.Cons (Of unary.Vi (Number (pos 3))) Nil)) ∷ (Data (Number (pos 64)) (Global name_g) (Of2 binary.Cons (Of unary.Vi (Number (pos 3))) Nil)) ∷ (Data (Number (pos 64)) (Global name_l) (Of2 binary.Cons (Of unary.Vi (Number (pos 0))) Nil)) ∷ []) }); post = (record { opened = (sort.List ∷ []); facts = ([]); locals = []; items = ((Data (Number (pos 64)) (Global name_arr) (Of2 binary.Cons (Of unary.Vi (Number (pos 1))) (Of2 binary.Cons (Of unary.Vi (Number (pos 2))) (Of2 binary.Cons (Of unary.Vi (Number (pos 0))) (Of2 binary.Cons (Of unary.Vi (Number (pos 0))) Nil))))) ∷ (Data (Number (pos 64)) (Global name_g) (Of2 binary.Cons (Of unary.Vi (Number (pos 3))) Nil)) ∷ (Data (Number (pos 64)) (Global name_x) (Var 1 sort.List)) ∷ (Data (Number (pos 64)) (Global name_l) (Of2 binary.Cons Undef Nil)) ∷ []) }) }) (record { temps = (name_s ∷ name_t ∷ name_i ∷ name_x1 ∷ name_d0 ∷ name_p1 ∷ name_q1 ∷ []); body = (c.Then (c.Set 0 (c.Const 0)) (c.Then (c.Set 1 (c.Const 3)) (c.Then (c.OnLock lock.Make (c.Address (root.Global name_l 1) c.Here)) (c.Then (c.OnLock lock.Release (c.Address (root.Global name_l 1) c.Here)) (c.Then (c.Set 0 (c.Binary two.Eq kind.Signed (c.Temp 1) (c.Const 2))) (c.Then (c.Call (Some 0) name_get ((c.Address (root.Global name_g 1) c.Here) ∷ [])) (c.Then (c.Set 1 (c.Binary two.Add kind.Signed (c.Binary two.Sub kind.Signed (c.Temp 1) (c.Const 2)) (c.Const 2))) (c.Then (c.OnLock lock.Acquire (c.Address (root.Global name_l 1) c.Here)) (c.Then (c.Load 1 (root.Global name_x 1) c.Here) (c.Then (c.OnLock lock.Release (c.Address (root.Global name_l 1) c.Here)) (c.Then (c.OnLock lock.Acquire (c.Address (root.Global name_l 1) c.Here)) (c.Then (c.OnLock lock.Free (c.Address (root.Global name_l 1) c.Here)) (c.Then (c.Return (Some (c.Temp 0))) c.End))))))))))))) }) (s.Then 1 (s.Set ([]) ([])) s.NoBlock (s.Then 2 (s.Set ([]) ([])) s.NoBlock (s.Then 3 (s.MakeLock 3 (record { name = name_ov; args = ([]) }) ([]) ([])) s.NoBlock (s.Then 4 (s.Fold name_ov 0 ([]) ((Of unary.Vi (Number (pos 3))) ∷ []) ([])) s.NoBlock (s.Then 5 (s.Release 3 4 ([])) s.NoBlock (s.Then 6 (s.Set ([]) ([])) s.NoBlock (s.Then 7 (s.Call ((Global name_g) ∷ (Of unary.Vi (Number (pos 3))) ∷ (Number (pos 64)) ∷ []) ([]) ([]) (name_k1 ∷ [])) s.NoBlock (s.Then 8 (s.Set ([]) ([])) s.NoBlock (s.Then 9 (s.Acquire 1 ([])) s.NoBlock (s.Then 10 (s.Unfold 4 ((name_k2 ∷ []) ∷ [])) (s.WithBlock (s.Then 11 (s.Load 4 ([]) ([])) s.NoBlock (s.Then 12 (s.Release 3 4 ([])) s.NoBlock (s.Then 13 (s.Acquire 1 ([])) s.NoBlock (s.Then 14 (s.Unfold 4 ((name_k3 ∷ []) ∷ [])) (s.WithBlock (s.Then 15 (s.FreeLock 1 3 ([]) ([])) s.NoBlock (s.Then 16 (s.Return ((Of2 binary.Cons (Named name_k3) Nil) ∷ []) ([]) ([])) s.NoBlock s.End)) s.NoBlock) s.End)))) s.NoBlock) s.End)))))))))) ≡ (RefusedAt 12 18 1)
unfolding computing
random_454 = refl

random_455 : body_verdict (record { predicates = ((record { name = name_ov; args = ([]); cases = ((record { opened = (sort.Val ∷ []); facts = ([]); locals = []; items = ((Data (Number (pos 64)) (Global name_x) (Of2 binary.Cons (Var 0 sort.Val) Nil)) ∷ []) }) ∷ []) }) ∷ []); specs = ((record { is_void = false; name = name_get; params = (name_p ∷ []); vars = ((name_v, sort.Val) ∷ (name_w, sort.Val) ∷ (name_s, sort.Int) ∷ []); pre = (record { opened = []; facts = ((Rel relation.Le (Number (pos 1)) (Var 2 sort.Int)) ∷ []); locals = ((name_p, (Var 0 sort.Val)) ∷ []); items = ((Data (Var 2 sort.Int) (Var 0 sort.Val) (Of2 binary.Cons (Var 1 sort.Val) Nil)) ∷ []) }); post = (record { opened = []; facts = ((Rel relation.Eq (Var 3 sort.Val) (Var 1 sort.Val)) ∷ []); locals = []; items = ((Data (Var 2 sort.Int) (Var 0 sort.Val) (Of2 binary.Cons (Var 1 sort.Val) Nil)) ∷ []) }) }) ∷ (record { is_void = false; name = name_main; params = ([]); vars = []; pre = (record { opened = []; facts = ([]); locals = []; items = ((Data (Number (pos 64)) (Global name_arr) (Of2 binary.Cons (Of unary.Vi (Number (pos 1))) (Of2 binary.Cons (Of unary.Vi (Number (pos 2))) (Of2 binary.Cons (Of unary.Vi (Number (pos 0))) (Of2 binary.Cons (Of unary.Vi (Number (pos 0))) Nil))))) ∷ (Data (Number (pos 64)) (Global name_x) (Of2 binary.Cons (Of unary.Vi (Number (pos 3))) Nil)) ∷ (Data (Number (pos 64)) (Global name_g) (Of2 binary.Cons (Of unary.Vi (Number (pos 3))) Nil)) ∷ (Data (Number (pos 64)) (Global name_l) (Of2 binary.Cons (Of unary.Vi (Number (pos 0))) Nil)) ∷ []) }); post = (record { opened = (sort.List ∷ []); facts = ([]); locals = []; items = ((Data (Number (pos 64)) (Global name_arr) (Of2 binary.Cons (Of unary.Vi (Number (pos 1))) (Of2 binary.Cons (Of unary.Vi (Number (pos 2))) (Of2 binary.Cons (Of unary.Vi (Number (pos 0))) (Of2 binary.Cons (Of unary.Vi (Number (pos 0))) Nil))))) ∷ (Data (Number (pos 64)) (Global name_g) (Of2 binary.Cons (Of unary.Vi (Number (pos 3))) Nil)) ∷ (Data (Number (pos 64)) (Global name_x) (Var 1 sort.List)) ∷ (Data (Number (pos 64)) (Global name_l) (Of2 binary.Cons Undef Nil)) ∷ []) }) }) ∷ []) }) (record { is_void = false; name = name_main; params = ([]); vars = []; pre = (record { opened = []; facts = ([]); locals = []; items = ((Data (Number (pos 64)) (Global name_arr) (Of2 binary.Cons (Of unary.Vi (Number (pos 1))) (Of2 binary.Cons (Of unary.Vi (Number (pos 2))) (Of2 binary.Cons (Of unary.Vi (Number (pos 0))) (Of2 binary.Cons (Of unary.Vi (Number (pos 0))) Nil))))) ∷ (Data (Number (pos 64)) (Global name_x) (Of2 binary.Cons (Of unary.Vi (Number (pos 3))) Nil)) ∷ (Data (Number (pos 64)) (Global name_g) (Of2 binary.Cons (Of unary.Vi (Number (pos 3))) Nil)) ∷ (Data (Number (pos 64)) (Global name_l) (Of2 binary.Cons (Of unary.Vi (Number (pos 0))) Nil)) ∷ []) }); post = (record { opened = (sort.List ∷ []); facts = ([]); locals = []; items = ((Data (Number (pos 64)) (Global name_arr) (Of2 binary.Cons (Of unary.Vi (Number (pos 1))) (Of2 binary.Cons (Of unary.Vi (Number (pos 2))) (Of2 binary.Cons (Of unary.Vi (Number (pos 0))) (Of2 binary.Cons (Of unary.Vi (Number (pos 0))) Nil))))) ∷ (Data (Number (pos 64)) (Global name_g) (Of2 binary.Cons (Of unary.Vi (Number (pos 3))) Nil)) ∷ (Data (Number (pos 64)) (Global name_x) (Var 1 sort.List)) ∷ (Data (Number (pos 64)) (Global name_l) (Of2 binary.Cons Undef Nil)) ∷ []) }) }) (record { temps = (name_s ∷ name_t ∷ name_i ∷ name_x1 ∷ name_d0 ∷ name_p1 ∷ name_q1 ∷ []); body = (c.Then (c.Set 0 (c.Const 0)) (c.Then (c.Set 1 (c.Const 3)) (c.Then (c.OnLock lock.Make (c.Address (root.Global name_l 1) c.Here)) (c.Then (c.OnLock lock.Release (c.Address (root.Global name_l 1) c.Here)) (c.Then (c.Set 0 (c.Binary two.Eq kind.Signed (c.Temp 1) (c.Const 2))) (c.Then (c.Call (Some 0) name_get ((c.Address (root.Global name_g 1) c.Here) ∷ [])) (c.Then (c.Set 1 (c.Binary two.Add kind.Signed (c.Binary two.Sub kind.Signed (c.Temp 1) (c.Const 2)) (c.Const 2))) (c.Then (c.OnLock lock.Acquire (c.Address (root.Global name_l 1) c.Here)) (c.Then (c.Load 1 (root.Global name_x 1) c.Here) (c.Then (c.OnLock lock.Release (c.Address (root.Global name_l 1) c.Here)) (c.Then (c.OnLock lock.Acquire (c.Address (root.Global name_l 1) c.Here)) (c.Then (c.OnLock lock.Free (c.Address (root.Global name_l 1) c.Here)) (c.Then (c.Return (Some (c.Temp 0))) c.End))))))))))))) }) (s.Then 1 (s.Set ([]) ([])) s.NoBlock (s.Then 2 (s.Set ([]) ([])) s.NoBlock (s.Then 3 (s.MakeLock 3 (record { name = name_ov; args = ([]) }) ([]) ([])) s.NoBlock (s.Then 4 (s.Fold name_ov 0 ([]) ((Of unary.Vi (Number (pos 3))) ∷ []) ([])) s.NoBlock (s.Then 5 (s.Release 3 4 ([])) s.NoBlock (s.Then 6 (s.Set ([]) ([])) s.NoBlock (s.Then 7 (s.Call ((Global name_g) ∷ (Of unary.Vi (Number (pos 3))) ∷ (Number (pos 64)) ∷ []) ([]) ([]) (name_k1 ∷ [])) s.NoBlock (s.Then 8 (s.Set ([]) ([])) s.NoBlock (s.Then 9 (s.Acquire 1 ([])) s.NoBlock (s.Then 10 (s.Unfold 4 ((name_k3 ∷ []) ∷ [])) (s.WithBlock (s.Then 11 (s.Load 4 ([]) ([])) s.NoBlock (s.Then 12 (s.Fold name_ov 0 ([]) ((Named name_k2) ∷ []) ([])) s.NoBlock (s.Then 13 (s.Release 3 4 ([])) s.NoBlock (s.Then 14 (s.Acquire 1 ([])) s.NoBlock (s.Then 15 (s.Unfold 4 ((name_k3 ∷ []) ∷ [])) (s.WithBlock (s.Then 16 (s.FreeLock 1 3 ([]) ([])) s.NoBlock (s.Then 17 (s.Return ((Of2 binary.Cons (Named name_k3) Nil) ∷ []) ([]) ([])) s.NoBlock s.End)) s.NoBlock) s.End))))) s.NoBlock) s.End)))))))))) ≡ (RefusedAt 12 21 1)
unfolding computing
random_455 = refl

random_456 : body_verdict (record { predicates = ((record { name = name_ov; args = ([]); cases = ((record { opened = (sort.Val ∷ []); facts = ([]); locals = []; items = ((Data (Number (pos 64)) (Global name_x) (Of2 binary.Cons (Var 0 sort.Val) Nil)) ∷ []) }) ∷ []) }) ∷ []); specs = ((record { is_void = false; name = name_get; params = (name_p ∷ []); vars = ((name_v, sort.Val) ∷ (name_w, sort.Val) ∷ (name_s, sort.Int) ∷ []); pre = (record { opened = []; facts = ((Rel relation.Le (Number (pos 1)) (Var 2 sort.Int)) ∷ []); locals = ((name_p, (Var 0 sort.Val)) ∷ []); items = ((Data (Var 2 sort.Int) (Var 0 sort.Val) (Of2 binary.Cons (Var 1 sort.Val) Nil)) ∷ []) }); post = (record { opened = []; facts = ((Rel relation.Eq (Var 3 sort.Val) (Var 1 sort.Val)) ∷ []); locals = []; items = ((Data (Var 2 sort.Int) (Var 0 sort.Val) (Of2 binary.Cons (Var 1 sort.Val) Nil)) ∷ []) }) }) ∷ (record { is_void = false; name = name_main; params = ([]); vars = []; pre = (record { opened = []; facts = ([]); locals = []; items = ((Data (Number (pos 64)) (Global name_arr) (Of2 binary.Cons (Of unary.Vi (Number (pos 1))) (Of2 binary.Cons (Of unary.Vi (Number (pos 2))) (Of2 binary.Cons (Of unary.Vi (Number (pos 0))) (Of2 binary.Cons (Of unary.Vi (Number (pos 0))) Nil))))) ∷ (Data (Number (pos 64)) (Global name_x) (Of2 binary.Cons (Of unary.Vi (Number (pos 3))) Nil)) ∷ (Data (Number (pos 64)) (Global name_g) (Of2 binary.Cons (Of unary.Vi (Number (pos 3))) Nil)) ∷ (Data (Number (pos 64)) (Global name_l) (Of2 binary.Cons (Of unary.Vi (Number (pos 0))) Nil)) ∷ []) }); post = (record { opened = (sort.List ∷ []); facts = ([]); locals = []; items = ((Data (Number (pos 64)) (Global name_arr) (Of2 binary.Cons (Of unary.Vi (Number (pos 1))) (Of2 binary.Cons (Of unary.Vi (Number (pos 2))) (Of2 binary.Cons (Of unary.Vi (Number (pos 0))) (Of2 binary.Cons (Of unary.Vi (Number (pos 0))) Nil))))) ∷ (Data (Number (pos 1)) (Global name_g) (Of2 binary.Cons (Of unary.Vi (Number (pos 3))) Nil)) ∷ (Data (Number (pos 64)) (Global name_x) (Var 1 sort.List)) ∷ (Data (Number (pos 64)) (Global name_l) (Of2 binary.Cons Undef Nil)) ∷ []) }) }) ∷ []) }) (record { is_void = false; name = name_main; params = ([]); vars = []; pre = (record { opened = []; facts = ([]); locals = []; items = ((Data (Number (pos 64)) (Global name_arr) (Of2 binary.Cons (Of unary.Vi (Number (pos 1))) (Of2 binary.Cons (Of unary.Vi (Number (pos 2))) (Of2 binary.Cons (Of unary.Vi (Number (pos 0))) (Of2 binary.Cons (Of unary.Vi (Number (pos 0))) Nil))))) ∷ (Data (Number (pos 64)) (Global name_x) (Of2 binary.Cons (Of unary.Vi (Number (pos 3))) Nil)) ∷ (Data (Number (pos 64)) (Global name_g) (Of2 binary.Cons (Of unary.Vi (Number (pos 3))) Nil)) ∷ (Data (Number (pos 64)) (Global name_l) (Of2 binary.Cons (Of unary.Vi (Number (pos 0))) Nil)) ∷ []) }); post = (record { opened = (sort.List ∷ []); facts = ([]); locals = []; items = ((Data (Number (pos 64)) (Global name_arr) (Of2 binary.Cons (Of unary.Vi (Number (pos 1))) (Of2 binary.Cons (Of unary.Vi (Number (pos 2))) (Of2 binary.Cons (Of unary.Vi (Number (pos 0))) (Of2 binary.Cons (Of unary.Vi (Number (pos 0))) Nil))))) ∷ (Data (Number (pos 1)) (Global name_g) (Of2 binary.Cons (Of unary.Vi (Number (pos 3))) Nil)) ∷ (Data (Number (pos 64)) (Global name_x) (Var 1 sort.List)) ∷ (Data (Number (pos 64)) (Global name_l) (Of2 binary.Cons Undef Nil)) ∷ []) }) }) (record { temps = (name_s ∷ name_t ∷ name_i ∷ name_x1 ∷ name_d0 ∷ name_p1 ∷ name_q1 ∷ []); body = (c.Then (c.Set 0 (c.Const 0)) (c.Then (c.Set 1 (c.Const 3)) (c.Then (c.OnLock lock.Make (c.Address (root.Global name_l 1) c.Here)) (c.Then (c.OnLock lock.Release (c.Address (root.Global name_l 1) c.Here)) (c.Then (c.Set 0 (c.Binary two.Eq kind.Signed (c.Temp 1) (c.Const 2))) (c.Then (c.Call (Some 0) name_get ((c.Address (root.Global name_g 1) c.Here) ∷ [])) (c.Then (c.Set 1 (c.Binary two.Add kind.Signed (c.Binary two.Sub kind.Signed (c.Temp 1) (c.Const 2)) (c.Const 2))) (c.Then (c.OnLock lock.Acquire (c.Address (root.Global name_l 1) c.Here)) (c.Then (c.Load 1 (root.Global name_x 1) c.Here) (c.Then (c.OnLock lock.Release (c.Address (root.Global name_l 1) c.Here)) (c.Then (c.OnLock lock.Acquire (c.Address (root.Global name_l 1) c.Here)) (c.Then (c.OnLock lock.Free (c.Address (root.Global name_l 1) c.Here)) (c.Then (c.Return (Some (c.Temp 0))) c.End))))))))))))) }) (s.Then 1 (s.Set ([]) ([])) s.NoBlock (s.Then 2 (s.Set ([]) ([])) s.NoBlock (s.Then 3 (s.MakeLock 3 (record { name = name_ov; args = ([]) }) ([]) ([])) s.NoBlock (s.Then 4 (s.Fold name_ov 0 ([]) ((Of unary.Vi (Number (pos 3))) ∷ []) ([])) s.NoBlock (s.Then 5 (s.Release 3 4 ([])) s.NoBlock (s.Then 6 (s.Set ([]) ([])) s.NoBlock (s.Then 7 (s.Call ((Global name_g) ∷ (Of unary.Vi (Number (pos 3))) ∷ (Number (pos 64)) ∷ []) ([]) ([]) (name_k1 ∷ [])) s.NoBlock (s.Then 8 (s.Set ([]) ([])) s.NoBlock (s.Then 9 (s.Acquire 1 ([])) s.NoBlock (s.Then 10 (s.Unfold 4 ((name_k2 ∷ []) ∷ [])) (s.WithBlock (s.Then 11 (s.Load 4 ([]) ([])) s.NoBlock (s.Then 12 (s.Fold name_ov 0 ([]) ((Named name_k2) ∷ []) ([])) s.NoBlock (s.Then 13 (s.Release 3 4 ([])) s.NoBlock (s.Then 14 (s.Acquire 1 ([])) s.NoBlock (s.Then 15 (s.Unfold 4 ((name_k3 ∷ []) ∷ [])) (s.WithBlock (s.Then 16 (s.FreeLock 1 3 ([]) ([])) s.NoBlock (s.Then 17 (s.Return ((Of2 binary.Cons (Named name_k3) Nil) ∷ []) ([]) ([])) s.NoBlock s.End)) s.NoBlock) s.End))))) s.NoBlock) s.End)))))))))) ≡ (RefusedAt 17 9 5)
unfolding computing
random_456 = refl

random_457 : body_verdict (record { predicates = ((record { name = name_ov; args = ([]); cases = ((record { opened = (sort.Val ∷ []); facts = ([]); locals = []; items = ((Data (Number (pos 64)) (Global name_x) (Of2 binary.Cons (Var 0 sort.Val) Nil)) ∷ []) }) ∷ []) }) ∷ []); specs = ((record { is_void = false; name = name_get; params = (name_p ∷ []); vars = ((name_v, sort.Val) ∷ (name_w, sort.Val) ∷ (name_s, sort.Int) ∷ []); pre = (record { opened = []; facts = ((Rel relation.Le (Number (pos 1)) (Var 2 sort.Int)) ∷ []); locals = ((name_p, (Var 0 sort.Val)) ∷ []); items = ((Data (Var 2 sort.Int) (Var 0 sort.Val) (Of2 binary.Cons (Var 1 sort.Val) Nil)) ∷ []) }); post = (record { opened = []; facts = ((Rel relation.Eq (Var 3 sort.Val) (Var 1 sort.Val)) ∷ []); locals = []; items = ((Data (Var 2 sort.Int) (Var 0 sort.Val) (Of2 binary.Cons (Var 1 sort.Val) Nil)) ∷ []) }) }) ∷ (record { is_void = false; name = name_main; params = ([]); vars = []; pre = (record { opened = []; facts = ([]); locals = []; items = ((Data (Number (pos 64)) (Global name_arr) (Of2 binary.Cons (Of unary.Vi (Number (pos 1))) (Of2 binary.Cons (Of unary.Vi (Number (pos 2))) (Of2 binary.Cons (Of unary.Vi (Number (pos 0))) (Of2 binary.Cons (Of unary.Vi (Number (pos 0))) Nil))))) ∷ (Data (Number (pos 64)) (Global name_x) (Of2 binary.Cons (Of unary.Vi (Number (pos 3))) Nil)) ∷ (Data (Number (pos 64)) (Global name_g) (Of2 binary.Cons (Of unary.Vi (Number (pos 3))) Nil)) ∷ (Data (Number (pos 64)) (Global name_l) (Of2 binary.Cons (Of unary.Vi (Number (pos 0))) Nil)) ∷ []) }); post = (record { opened = (sort.List ∷ []); facts = ([]); locals = []; items = ((Data (Number (pos 64)) (Global name_arr) (Of2 binary.Cons (Of unary.Vi (Number (pos 1))) (Of2 binary.Cons (Of unary.Vi (Number (pos 2))) (Of2 binary.Cons (Of unary.Vi (Number (pos 0))) (Of2 binary.Cons (Of unary.Vi (Number (pos 0))) Nil))))) ∷ (Data (Number (pos 64)) (Global name_g) (Of2 binary.Cons (Of unary.Vi (Number (pos 3))) Nil)) ∷ (Data (Number (pos 64)) (Global name_x) (Var 1 sort.List)) ∷ (Data (Number (pos 64)) (Global name_l) (Of2 binary.Cons Undef Nil)) ∷ []) }) }) ∷ []) }) (record { is_void = false; name = name_main; params = ([]); vars = []; pre = (record { opened = []; facts = ([]); locals = []; items = ((Data (Number (pos 64)) (Global name_arr) (Of2 binary.Cons (Of unary.Vi (Number (pos 1))) (Of2 binary.Cons (Of unary.Vi (Number (pos 2))) (Of2 binary.Cons (Of unary.Vi (Number (pos 0))) (Of2 binary.Cons (Of unary.Vi (Number (pos 0))) Nil))))) ∷ (Data (Number (pos 64)) (Global name_x) (Of2 binary.Cons (Of unary.Vi (Number (pos 3))) Nil)) ∷ (Data (Number (pos 64)) (Global name_g) (Of2 binary.Cons (Of unary.Vi (Number (pos 3))) Nil)) ∷ (Data (Number (pos 64)) (Global name_l) (Of2 binary.Cons (Of unary.Vi (Number (pos 0))) Nil)) ∷ []) }); post = (record { opened = (sort.List ∷ []); facts = ([]); locals = []; items = ((Data (Number (pos 64)) (Global name_arr) (Of2 binary.Cons (Of unary.Vi (Number (pos 1))) (Of2 binary.Cons (Of unary.Vi (Number (pos 2))) (Of2 binary.Cons (Of unary.Vi (Number (pos 0))) (Of2 binary.Cons (Of unary.Vi (Number (pos 0))) Nil))))) ∷ (Data (Number (pos 64)) (Global name_g) (Of2 binary.Cons (Of unary.Vi (Number (pos 3))) Nil)) ∷ (Data (Number (pos 64)) (Global name_x) (Var 1 sort.List)) ∷ (Data (Number (pos 64)) (Global name_l) (Of2 binary.Cons Undef Nil)) ∷ []) }) }) (record { temps = (name_s ∷ name_t ∷ name_i ∷ name_x1 ∷ name_d0 ∷ name_p1 ∷ name_q1 ∷ []); body = (c.Then (c.Set 0 (c.Const 0)) (c.Then (c.Set 1 (c.Const 3)) (c.Then (c.OnLock lock.Make (c.Address (root.Global name_l 1) c.Here)) (c.Then (c.OnLock lock.Release (c.Address (root.Global name_l 1) c.Here)) (c.Then (c.Set 0 (c.Binary two.Eq kind.Signed (c.Temp 1) (c.Const 2))) (c.Then (c.Call (Some 0) name_get ((c.Address (root.Global name_g 1) c.Here) ∷ [])) (c.Then (c.Set 1 (c.Binary two.Add kind.Signed (c.Binary two.Sub kind.Signed (c.Temp 1) (c.Const 2)) (c.Const 2))) (c.Then (c.OnLock lock.Acquire (c.Address (root.Global name_l 1) c.Here)) (c.Then (c.Load 1 (root.Global name_x 1) c.Here) (c.Then (c.OnLock lock.Release (c.Address (root.Global name_l 1) c.Here)) (c.Then (c.OnLock lock.Acquire (c.Address (root.Global name_l 1) c.Here)) (c.Then (c.OnLock lock.Free (c.Address (root.Global name_l 1) c.Here)) (c.Then (c.Return (Some (c.Temp 0))) c.End))))))))))))) }) (s.Then 1 (s.Set ([]) ([])) s.NoBlock (s.Then 2 (s.Set ([]) ([])) s.NoBlock (s.Then 3 (s.MakeLock 3 (record { name = name_ov; args = ([]) }) ([]) ([])) s.NoBlock (s.Then 4 (s.Fold name_ov 0 ([]) ((Of unary.Vi (Number (pos 3))) ∷ []) ([])) s.NoBlock (s.Then 5 (s.Release 3 4 ([])) s.NoBlock (s.Then 6 (s.Set ([]) ([])) s.NoBlock (s.Then 7 (s.Call ((Global name_g) ∷ (Of unary.Vi (Number (pos 3))) ∷ (Number (pos 64)) ∷ []) ([]) ([]) (name_k1 ∷ [])) s.NoBlock (s.Then 8 (s.Set ([]) ([])) s.NoBlock (s.Then 9 (s.Acquire 1 ([])) s.NoBlock (s.Then 10 (s.Unfold 4 ((name_k2 ∷ []) ∷ [])) (s.WithBlock (s.Then 11 (s.Load 4 ([]) ([])) s.NoBlock (s.Then 12 (s.Fold name_ov 0 ([]) ((Named name_k2) ∷ []) ([])) s.NoBlock (s.Then 13 (s.Release 3 4 ([])) s.NoBlock (s.Then 14 (s.Acquire 0 ([])) s.NoBlock (s.Then 15 (s.Unfold 4 ((name_k3 ∷ []) ∷ [])) (s.WithBlock (s.Then 16 (s.FreeLock 1 3 ([]) ([])) s.NoBlock (s.Then 17 (s.Return ((Of2 binary.Cons (Named name_k3) Nil) ∷ []) ([]) ([])) s.NoBlock s.End)) s.NoBlock) s.End))))) s.NoBlock) s.End)))))))))) ≡ (RefusedAt 14 17 1)
unfolding computing
random_457 = refl

random_458 : body_verdict (record { predicates = ((record { name = name_ov; args = ([]); cases = ((record { opened = (sort.Val ∷ []); facts = ([]); locals = []; items = ((Data (Number (pos 64)) (Global name_x) (Of2 binary.Cons (Var 0 sort.Val) Nil)) ∷ []) }) ∷ []) }) ∷ []); specs = ((record { is_void = false; name = name_get; params = (name_p ∷ []); vars = ((name_v, sort.Val) ∷ (name_w, sort.Val) ∷ (name_s, sort.Int) ∷ []); pre = (record { opened = []; facts = ((Rel relation.Le (Number (pos 1)) (Var 2 sort.Int)) ∷ []); locals = ((name_p, (Var 0 sort.Val)) ∷ []); items = ((Data (Var 2 sort.Int) (Var 0 sort.Val) (Of2 binary.Cons (Var 1 sort.Val) Nil)) ∷ []) }); post = (record { opened = []; facts = ((Rel relation.Eq (Var 3 sort.Val) (Var 1 sort.Val)) ∷ []); locals = []; items = ((Data (Var 2 sort.Int) (Var 0 sort.Val) (Of2 binary.Cons (Var 1 sort.Val) Nil)) ∷ []) }) }) ∷ (record { is_void = false; name = name_main; params = ([]); vars = []; pre = (record { opened = []; facts = ([]); locals = []; items = ((Data (Number (pos 64)) (Global name_arr) (Of2 binary.Cons (Of unary.Vi (Number (pos 1))) (Of2 binary.Cons (Of unary.Vi (Number (pos 2))) (Of2 binary.Cons (Of unary.Vi (Number (pos 0))) (Of2 binary.Cons (Of unary.Vi (Number (pos 0))) Nil))))) ∷ (Data (Number (pos 64)) (Global name_x) (Of2 binary.Cons (Of unary.Vi (Number (pos 3))) Nil)) ∷ (Data (Number (pos 64)) (Global name_g) (Of2 binary.Cons (Of unary.Vi (Number (pos 3))) Nil)) ∷ (Data (Number (pos 64)) (Global name_l) (Of2 binary.Cons (Of unary.Vi (Number (pos 0))) Nil)) ∷ []) }); post = (record { opened = (sort.List ∷ []); facts = ([]); locals = []; items = ((Data (Number (pos 64)) (Global name_arr) (Of2 binary.Cons (Of unary.Vi (Number (pos 1))) (Of2 binary.Cons (Of unary.Vi (Number (pos 2))) (Of2 binary.Cons (Of unary.Vi (Number (pos 0))) (Of2 binary.Cons (Of unary.Vi (Number (pos 0))) Nil))))) ∷ (Data (Number (pos 64)) (Global name_g) (Of2 binary.Cons (Of unary.Vi (Number (pos 3))) Nil)) ∷ (Data (Number (pos 64)) (Global name_x) (Var 1 sort.List)) ∷ (Data (Number (pos 64)) (Global name_l) (Of2 binary.Cons Undef Nil)) ∷ []) }) }) ∷ []) }) (record { is_void = false; name = name_main; params = ([]); vars = []; pre = (record { opened = []; facts = ([]); locals = []; items = ((Data (Number (pos 64)) (Global name_arr) (Of2 binary.Cons (Of unary.Vi (Number (pos 1))) (Of2 binary.Cons (Of unary.Vi (Number (pos 2))) (Of2 binary.Cons (Of unary.Vi (Number (pos 0))) (Of2 binary.Cons (Of unary.Vi (Number (pos 0))) Nil))))) ∷ (Data (Number (pos 64)) (Global name_x) (Of2 binary.Cons (Of unary.Vi (Number (pos 3))) Nil)) ∷ (Data (Number (pos 64)) (Global name_g) (Of2 binary.Cons (Of unary.Vi (Number (pos 3))) Nil)) ∷ (Data (Number (pos 64)) (Global name_l) (Of2 binary.Cons (Of unary.Vi (Number (pos 0))) Nil)) ∷ []) }); post = (record { opened = (sort.List ∷ []); facts = ([]); locals = []; items = ((Data (Number (pos 64)) (Global name_arr) (Of2 binary.Cons (Of unary.Vi (Number (pos 1))) (Of2 binary.Cons (Of unary.Vi (Number (pos 2))) (Of2 binary.Cons (Of unary.Vi (Number (pos 0))) (Of2 binary.Cons (Of unary.Vi (Number (pos 0))) Nil))))) ∷ (Data (Number (pos 64)) (Global name_g) (Of2 binary.Cons (Of unary.Vi (Number (pos 3))) Nil)) ∷ (Data (Number (pos 64)) (Global name_x) (Var 1 sort.List)) ∷ (Data (Number (pos 64)) (Global name_l) (Of2 binary.Cons Undef Nil)) ∷ []) }) }) (record { temps = (name_s ∷ name_t ∷ name_i ∷ name_x1 ∷ name_d0 ∷ name_p1 ∷ name_q1 ∷ []); body = (c.Then (c.Set 0 (c.Const 0)) (c.Then (c.Set 1 (c.Const 3)) (c.Then (c.OnLock lock.Make (c.Address (root.Global name_l 1) c.Here)) (c.Then (c.OnLock lock.Release (c.Address (root.Global name_l 1) c.Here)) (c.Then (c.Set 0 (c.Binary two.Eq kind.Signed (c.Temp 1) (c.Const 2))) (c.Then (c.Call (Some 0) name_get ((c.Address (root.Global name_g 1) c.Here) ∷ [])) (c.Then (c.Set 1 (c.Binary two.Add kind.Signed (c.Binary two.Sub kind.Signed (c.Temp 1) (c.Const 2)) (c.Const 2))) (c.Then (c.OnLock lock.Acquire (c.Address (root.Global name_l 1) c.Here)) (c.Then (c.Load 1 (root.Global name_x 1) c.Here) (c.Then (c.OnLock lock.Release (c.Address (root.Global name_l 1) c.Here)) (c.Then (c.OnLock lock.Acquire (c.Address (root.Global name_l 1) c.Here)) (c.Then (c.OnLock lock.Free (c.Address (root.Global name_l 1) c.Here)) (c.Then (c.Return (Some (c.Temp 0))) c.End))))))))))))) }) (s.Then 1 (s.Set ([]) ([])) s.NoBlock (s.Then 2 (s.Set ([]) ([])) s.NoBlock (s.Then 3 (s.MakeLock 3 (record { name = name_ov; args = ([]) }) ([]) ([])) s.NoBlock (s.Then 4 (s.Fold name_ov 0 ([]) ((Of unary.Vi (Number (pos 3))) ∷ []) ([])) s.NoBlock (s.Then 5 (s.Release 3 4 ([])) s.NoBlock (s.Then 6 (s.Set ([]) ([])) s.NoBlock (s.Then 7 (s.Call ((Global name_g) ∷ (Of unary.Vi (Number (pos 3))) ∷ (Number (pos 64)) ∷ []) ([]) ([]) (name_k1 ∷ [])) s.NoBlock (s.Then 8 (s.Set ([]) ([])) s.NoBlock (s.Then 9 (s.Acquire 1 ([])) s.NoBlock (s.Then 10 (s.Unfold 4 ((name_k2 ∷ []) ∷ [])) (s.WithBlock (s.Then 11 (s.Load 4 ([]) ([])) s.NoBlock (s.Then 12 (s.Fold name_ov 0 ((Number (pos 0)) ∷ []) ((Named name_k2) ∷ []) ([])) s.NoBlock (s.Then 13 (s.Release 3 4 ([])) s.NoBlock (s.Then 14 (s.Acquire 1 ([])) s.NoBlock (s.Then 15 (s.Unfold 4 ((name_k3 ∷ []) ∷ [])) (s.WithBlock (s.Then 16 (s.FreeLock 1 3 ([]) ([])) s.NoBlock (s.Then 17 (s.Return ((Of2 binary.Cons (Named name_k3) Nil) ∷ []) ([]) ([])) s.NoBlock s.End)) s.NoBlock) s.End))))) s.NoBlock) s.End)))))))))) ≡ (RefusedAt 12 21 1)
unfolding computing
random_458 = refl

random_459 : body_verdict (record { predicates = ((record { name = name_ov; args = ([]); cases = ((record { opened = (sort.Val ∷ []); facts = ([]); locals = []; items = ((Data (Number (pos 64)) (Global name_x) (Of2 binary.Cons (Var 0 sort.Val) Nil)) ∷ []) }) ∷ []) }) ∷ []); specs = ((record { is_void = false; name = name_get; params = (name_p ∷ []); vars = ((name_v, sort.Val) ∷ (name_w, sort.Val) ∷ (name_s, sort.Int) ∷ []); pre = (record { opened = []; facts = ((Rel relation.Le (Number (pos 1)) (Var 2 sort.Int)) ∷ []); locals = ((name_p, (Var 0 sort.Val)) ∷ []); items = ((Data (Var 2 sort.Int) (Var 0 sort.Val) (Of2 binary.Cons (Var 1 sort.Val) Nil)) ∷ []) }); post = (record { opened = []; facts = ((Rel relation.Eq (Var 3 sort.Val) (Var 1 sort.Val)) ∷ []); locals = []; items = ((Data (Var 2 sort.Int) (Var 0 sort.Val) (Of2 binary.Cons (Var 1 sort.Val) Nil)) ∷ []) }) }) ∷ (record { is_void = false; name = name_main; params = ([]); vars = []; pre = (record { opened = []; facts = ([]); locals = []; items = ((Data (Number (pos 64)) (Global name_arr) (Of2 binary.Cons (Of unary.Vi (Number (pos 1))) (Of2 binary.Cons (Of unary.Vi (Number (pos 2))) (Of2 binary.Cons (Of unary.Vi (Number (pos 0))) (Of2 binary.Cons (Of unary.Vi (Number (pos 0))) Nil))))) ∷ (Data (Number (pos 64)) (Global name_x) (Of2 binary.Cons (Of unary.Vi (Number (pos 3))) Nil)) ∷ (Data (Number (pos 64)) (Global name_g) (Of2 binary.Cons (Of unary.Vi (Number (pos 3))) Nil)) ∷ (Data (Number (pos 64)) (Global name_l) (Of2 binary.Cons (Of unary.Vi (Number (pos 0))) Nil)) ∷ []) }); post = (record { opened = (sort.List ∷ []); facts = ([]); locals = []; items = ((Data (Number (pos 64)) (Global name_arr) (Of2 binary.Cons (Of unary.Vi (Number (pos 1))) (Of2 binary.Cons (Of unary.Vi (Number (pos 2))) (Of2 binary.Cons (Of unary.Vi (Number (pos 0))) (Of2 binary.Cons (Of unary.Vi (Number (pos 0))) Nil))))) ∷ (Data (Number (pos 64)) (Global name_g) (Of2 binary.Cons (Of unary.Vi (Number (pos 3))) Nil)) ∷ (Data (Number (pos 64)) (Global name_x) (Var 1 sort.List)) ∷ (Data (Number (pos 64)) (Global name_l) (Of2 binary.Cons Undef Nil)) ∷ []) }) }) ∷ []) }) (record { is_void = false; name = name_main; params = ([]); vars = []; pre = (record { opened = []; facts = ([]); locals = []; items = ((Data (Number (pos 64)) (Global name_arr) (Of2 binary.Cons (Of unary.Vi (Number (pos 1))) (Of2 binary.Cons (Of unary.Vi (Number (pos 2))) (Of2 binary.Cons (Of unary.Vi (Number (pos 0))) (Of2 binary.Cons (Of unary.Vi (Number (pos 0))) Nil))))) ∷ (Data (Number (pos 64)) (Global name_x) (Of2 binary.Cons (Of unary.Vi (Number (pos 3))) Nil)) ∷ (Data (Number (pos 64)) (Global name_g) (Of2 binary.Cons (Of unary.Vi (Number (pos 3))) Nil)) ∷ (Data (Number (pos 64)) (Global name_l) (Of2 binary.Cons (Of unary.Vi (Number (pos 0))) Nil)) ∷ []) }); post = (record { opened = (sort.List ∷ []); facts = ([]); locals = []; items = ((Data (Number (pos 64)) (Global name_arr) (Of2 binary.Cons (Of unary.Vi (Number (pos 1))) (Of2 binary.Cons (Of unary.Vi (Number (pos 2))) (Of2 binary.Cons (Of unary.Vi (Number (pos 0))) (Of2 binary.Cons (Of unary.Vi (Number (pos 0))) Nil))))) ∷ (Data (Number (pos 64)) (Global name_g) (Of2 binary.Cons (Of unary.Vi (Number (pos 3))) Nil)) ∷ (Data (Number (pos 64)) (Global name_x) (Var 1 sort.List)) ∷ (Data (Number (pos 64)) (Global name_l) (Of2 binary.Cons Undef Nil)) ∷ []) }) }) (record { temps = (name_s ∷ name_t ∷ name_i ∷ name_x1 ∷ name_d0 ∷ name_p1 ∷ name_q1 ∷ []); body = (c.Then (c.Set 0 (c.Const 0)) (c.Then (c.Set 1 (c.Const 3)) (c.Then (c.OnLock lock.Make (c.Address (root.Global name_l 1) c.Here)) (c.Then (c.OnLock lock.Release (c.Address (root.Global name_l 1) c.Here)) (c.Then (c.Set 0 (c.Binary two.Eq kind.Signed (c.Temp 1) (c.Const 2))) (c.Then (c.Call (Some 0) name_get ((c.Address (root.Global name_g 1) c.Here) ∷ [])) (c.Then (c.Set 1 (c.Binary two.Add kind.Signed (c.Binary two.Sub kind.Signed (c.Temp 1) (c.Const 2)) (c.Const 2))) (c.Then (c.OnLock lock.Acquire (c.Address (root.Global name_l 1) c.Here)) (c.Then (c.Load 1 (root.Global name_x 1) c.Here) (c.Then (c.OnLock lock.Release (c.Address (root.Global name_l 1) c.Here)) (c.Then (c.OnLock lock.Acquire (c.Address (root.Global name_l 1) c.Here)) (c.Then (c.OnLock lock.Free (c.Address (root.Global name_l 1) c.Here)) (c.Then (c.Return (Some (c.Temp 0))) c.End))))))))))))) }) (s.Then 1 (s.Set ([]) ([])) s.NoBlock (s.Then 2 (s.Set ([]) ([])) s.NoBlock (s.Then 3 (s.MakeLock 3 (record { name = name_ov; args = ([]) }) ([]) ([])) s.NoBlock (s.Then 4 (s.Fold name_ov 0 ([]) ((Of unary.Vi (Number (pos 3))) ∷ []) ([])) s.NoBlock (s.Then 5 (s.Release 3 4 ([])) s.NoBlock (s.Then 6 (s.Set ([]) ([])) s.NoBlock (s.Then 7 (s.Call ((Global name_g) ∷ (Of unary.Vi (Number (pos 3))) ∷ (Number (pos 64)) ∷ []) ([]) ([]) (name_k1 ∷ [])) s.NoBlock (s.Then 8 (s.Set ([]) ([])) s.NoBlock (s.Then 9 (s.Acquire 1 ([])) s.NoBlock (s.Then 10 (s.Unfold 4 ((name_k2 ∷ []) ∷ [])) (s.WithBlock (s.Then 11 (s.Unshare 0 1 ([])) s.NoBlock (s.Then 12 (s.Load 4 ([]) ([])) s.NoBlock (s.Then 13 (s.Fold name_ov 0 ([]) ((Named name_k2) ∷ []) ([])) s.NoBlock (s.Then 14 (s.Release 3 4 ([])) s.NoBlock (s.Then 15 (s.Acquire 1 ([])) s.NoBlock (s.Then 16 (s.Unfold 4 ((name_k3 ∷ []) ∷ [])) (s.WithBlock (s.Then 17 (s.FreeLock 1 3 ([]) ([])) s.NoBlock (s.Then 18 (s.Return ((Of2 binary.Cons (Named name_k3) Nil) ∷ []) ([]) ([])) s.NoBlock s.End)) s.NoBlock) s.End)))))) s.NoBlock) s.End)))))))))) ≡ (RefusedAt 11 32 1)
unfolding computing
random_459 = refl

random_460 : body_verdict (record { predicates = ((record { name = name_ov; args = ([]); cases = ((record { opened = (sort.Val ∷ []); facts = ([]); locals = []; items = ((Data (Number (pos 64)) (Global name_x) (Of2 binary.Cons (Var 0 sort.Val) Nil)) ∷ []) }) ∷ []) }) ∷ []); specs = ((record { is_void = false; name = name_get; params = (name_p ∷ []); vars = ((name_v, sort.Val) ∷ (name_w, sort.Val) ∷ (name_s, sort.Int) ∷ []); pre = (record { opened = []; facts = ((Rel relation.Le (Number (pos 1)) (Var 2 sort.Int)) ∷ []); locals = ((name_p, (Var 0 sort.Val)) ∷ []); items = ((Data (Var 2 sort.Int) (Var 0 sort.Val) (Of2 binary.Cons (Var 1 sort.Val) Nil)) ∷ []) }); post = (record { opened = []; facts = ((Rel relation.Eq (Var 3 sort.Val) (Var 1 sort.Val)) ∷ []); locals = []; items = ((Data (Var 2 sort.Int) (Var 0 sort.Val) (Of2 binary.Cons (Var 1 sort.Val) Nil)) ∷ []) }) }) ∷ (record { is_void = false; name = name_main; params = ([]); vars = []; pre = (record { opened = []; facts = ([]); locals = []; items = ((Data (Number (pos 64)) (Global name_g) (Of2 binary.Cons (Of unary.Vi (Number (pos 3))) Nil)) ∷ (Data (Number (pos 64)) (Global name_arr) (Of2 binary.Cons (Of unary.Vi (Number (pos 1))) (Of2 binary.Cons (Of unary.Vi (Number (pos 2))) (Of2 binary.Cons (Of unary.Vi (Number (pos 0))) (Of2 binary.Cons (Of unary.Vi (Number (pos 0))) Nil))))) ∷ (Data (Number (pos 64)) (Global name_x) (Of2 binary.Cons (Of unary.Vi (Number (pos 3))) Nil)) ∷ (Data (Number (pos 64)) (Global name_l) (Of2 binary.Cons (Of unary.Vi (Number (pos 0))) Nil)) ∷ []) }); post = (record { opened = (sort.List ∷ sort.List ∷ []); facts = ([]); locals = []; items = ((Data (Number (pos 64)) (Global name_arr) (Var 1 sort.List)) ∷ (Lock (Number (pos 64)) (Global name_l) (record { name = name_ov; args = ([]) })) ∷ (Data (Number (pos 64)) (Global name_g) (Var 2 sort.List)) ∷ []) }) }) ∷ []) }) (record { is_void = false; name = name_main; params = ([]); vars = []; pre = (record { opened = []; facts = ([]); locals = []; items = ((Data (Number (pos 64)) (Global name_g) (Of2 binary.Cons (Of unary.Vi (Number (pos 3))) Nil)) ∷ (Data (Number (pos 64)) (Global name_arr) (Of2 binary.Cons (Of unary.Vi (Number (pos 1))) (Of2 binary.Cons (Of unary.Vi (Number (pos 2))) (Of2 binary.Cons (Of unary.Vi (Number (pos 0))) (Of2 binary.Cons (Of unary.Vi (Number (pos 0))) Nil))))) ∷ (Data (Number (pos 64)) (Global name_x) (Of2 binary.Cons (Of unary.Vi (Number (pos 3))) Nil)) ∷ (Data (Number (pos 64)) (Global name_l) (Of2 binary.Cons (Of unary.Vi (Number (pos 0))) Nil)) ∷ []) }); post = (record { opened = (sort.List ∷ sort.List ∷ []); facts = ([]); locals = []; items = ((Data (Number (pos 64)) (Global name_arr) (Var 1 sort.List)) ∷ (Lock (Number (pos 64)) (Global name_l) (record { name = name_ov; args = ([]) })) ∷ (Data (Number (pos 64)) (Global name_g) (Var 2 sort.List)) ∷ []) }) }) (record { temps = (name_s ∷ name_t ∷ name_i ∷ name_x1 ∷ name_d0 ∷ name_p1 ∷ name_q1 ∷ []); body = (c.Then (c.Set 0 (c.Const 1)) (c.Then (c.Set 1 (c.Const 2)) (c.Then (c.OnLock lock.Make (c.Address (root.Global name_l 1) c.Here)) (c.Then (c.OnLock lock.Release (c.Address (root.Global name_l 1) c.Here)) (c.Then (c.Set 4 (c.Const 2)) (c.Then (c.Load 1 (root.Global name_g 1) c.Here) (c.Then (c.Set 2 (c.Const 0)) (c.Then (c.Loop (c.Then (c.If (c.Nonzero kind.Signed (c.Binary two.Lt kind.Signed (c.Temp 2) (c.Const 10))) (c.Then (c.Set 4 (c.Const 1)) (c.Then (c.Set 2 (c.Binary two.Add kind.Signed (c.Temp 2) (c.Const 1))) c.End)) (c.Then c.Break c.End)) c.End)) (c.Then (c.Load 1 (root.Global name_g 1) c.Here) (c.Then (c.Call (Some 0) name_get ((c.Address (root.Global name_g 1) c.Here) ∷ [])) (c.Then (c.Set 3 (c.Const 7)) (c.Then (c.OnLock lock.Acquire (c.Address (root.Global name_l 1) c.Here)) (c.Then (c.Store (root.Global name_x 1) c.Here (c.Const 4)) (c.Then (c.OnLock lock.Release (c.Address (root.Global name_l 1) c.Here)) (c.Then (c.Return (Some (c.Temp 0))) c.End))))))))))))))) }) (s.Then 1 (s.Set ([]) ([])) s.NoBlock (s.Then 2 (s.Set ([]) ([])) s.NoBlock (s.Then 3 (s.MakeLock 3 (record { name = name_ov; args = ([]) }) ([]) ([])) s.NoBlock (s.Then 4 (s.Fold name_ov 0 ([]) ((Of unary.Vi (Number (pos 3))) ∷ []) ([])) s.NoBlock (s.Then 5 (s.Release 3 4 ([])) s.NoBlock (s.Then 6 (s.Set ([]) ([])) s.NoBlock (s.Then 7 (s.Load 0 ([]) ([])) s.NoBlock (s.Then 8 (s.Set ([]) ([])) s.NoBlock (s.Then 9 (s.While (record { opened = (sort.Int ∷ sort.Int ∷ []); facts = ((Rel relation.Le (Number (pos 0)) (Var 0 sort.Int)) ∷ (Rel relation.Le (Var 0 sort.Int) (Number (pos 10))) ∷ []); locals = ((name_s, (Of unary.Vi (Number (pos 1)))) ∷ (name_t, (Of unary.Vi (Number (pos 3)))) ∷ (name_i, (Of unary.Vi (Var 0 sort.Int))) ∷ (name_d0, (Of unary.Vi (Var 1 sort.Int))) ∷ []); items = ((Data (Number (pos 64)) (Global name_g) (Of2 binary.Cons (Of unary.Vi (Number (pos 3))) Nil)) ∷ (Data (Number (pos 64)) (Global name_arr) (Of2 binary.Cons (Of unary.Vi (Number (pos 1))) (Of2 binary.Cons (Of unary.Vi (Number (pos 2))) (Of2 binary.Cons (Of unary.Vi (Number (pos 0))) (Of2 binary.Cons (Of unary.Vi (Number (pos 0))) Nil))))) ∷ (Lock (Number (pos 64)) (Global name_l) (record { name = name_ov; args = ([]) })) ∷ []) }) (record { opened = (sort.Int ∷ sort.Int ∷ []); facts = ((Rel relation.Le (Number (pos 0)) (Var 0 sort.Int)) ∷ (Rel relation.Le (Var 0 sort.Int) (Number (pos 10))) ∷ (Rel relation.Le (Number (pos 10)) (Var 0 sort.Int)) ∷ []); locals = ((name_s, (Of unary.Vi (Number (pos 1)))) ∷ (name_t, (Of unary.Vi (Number (pos 3)))) ∷ (name_i, (Of unary.Vi (Var 0 sort.Int))) ∷ (name_d0, (Of unary.Vi (Var 1 sort.Int))) ∷ []); items = ((Data (Number (pos 64)) (Global name_g) (Of2 binary.Cons (Of unary.Vi (Number (pos 3))) Nil)) ∷ (Data (Number (pos 64)) (Global name_arr) (Of2 binary.Cons (Of unary.Vi (Number (pos 1))) (Of2 binary.Cons (Of unary.Vi (Number (pos 2))) (Of2 binary.Cons (Of unary.Vi (Number (pos 0))) (Of2 binary.Cons (Of unary.Vi (Number (pos 0))) Nil))))) ∷ (Lock (Number (pos 64)) (Global name_l) (record { name = name_ov; args = ([]) })) ∷ []) }) (name_k3 ∷ name_k4 ∷ []) ([]) (name_k1 ∷ name_k2 ∷ [])) (s.WithBlock (s.Then 10 (s.Meet ((Number (pos 1)) ∷ (Number (pos 2)) ∷ []) ([])) s.NoBlock s.End) (s.WithBlock (s.Then 11 (s.If ([]) ((record { lines = ((line.Comb (((pos 1), 0) ∷ ((pos 1), 2) ∷ [])) ∷ []) }) ∷ (record { lines = ((line.Comb (((pos 1), 1) ∷ ((pos 1), 2) ∷ [])) ∷ []) }) ∷ []) ([]) ([])) (s.WithBlock (s.Then 12 (s.Set ([]) ([])) s.NoBlock (s.Then 13 (s.Set ([]) ((record { lines = ((line.Comb (((pos 1), 0) ∷ ((pos 1), 3) ∷ [])) ∷ []) }) ∷ (record { lines = ((line.Comb (((pos 1), 1) ∷ ((pos 1), 3) ∷ [])) ∷ []) }) ∷ (record { lines = ((line.Comb (((pos 1), 0) ∷ ((pos 1), 3) ∷ [])) ∷ []) }) ∷ (record { lines = ((line.Comb (((pos 1), 1) ∷ ((pos 1), 3) ∷ [])) ∷ []) }) ∷ [])) s.NoBlock (s.Then 14 (s.Fall ((Of2 binary.Add (Named name_k1) (Number (pos 1))) ∷ (Number (pos 1)) ∷ []) ((record { lines = ((line.Comb (((pos 1), 0) ∷ ((pos 1), 3) ∷ [])) ∷ []) }) ∷ [])) s.NoBlock s.End))) (s.WithBlock (s.Then 15 (s.Break ((Named name_k1) ∷ (Named name_k2) ∷ []) ([])) s.NoBlock s.End) s.NoBlock)) s.End) s.NoBlock)) (s.Then 16 (s.Load 0 ([]) ([])) s.NoBlock (s.Then 17 (s.Call ((Global name_g) ∷ (Of unary.Vi (Number (pos 3))) ∷ (Number (pos 64)) ∷ []) ([]) ([]) (name_k5 ∷ [])) s.NoBlock (s.Then 18 (s.Set ([]) ([])) s.NoBlock (s.Then 19 (s.Acquire 1 ([])) s.NoBlock (s.Then 20 (s.Unfold 4 ((name_k6 ∷ []) ∷ [])) (s.WithBlock (s.Then 21 (s.Store 4 ([]) ([])) s.NoBlock (s.Then 22 (s.Fold name_ov 0 ([]) ((Of unary.Vi (Number (pos 4))) ∷ []) ([])) s.NoBlock (s.Then 23 (s.Release 3 4 ([])) s.NoBlock (s.Then 24 (s.Return ((Of2 binary.Cons (Of unary.Vi (Number (pos 1))) (Of2 binary.Cons (Of unary.Vi (Number (pos 2))) (Of2 binary.Cons (Of unary.Vi (Number (pos 0))) (Of2 binary.Cons (Of unary.Vi (Number (pos 0))) Nil)))) ∷ (Of2 binary.Cons (Of unary.Vi (Number (pos 3))) Nil) ∷ []) ([]) ([])) s.NoBlock s.End)))) s.NoBlock) s.End)))))))))))))) ≡ (RefusedAt 10 37 4)
unfolding computing
random_460 = refl

random_461 : body_verdict (record { predicates = ((record { name = name_ov; args = ([]); cases = ((record { opened = (sort.Val ∷ []); facts = ([]); locals = []; items = ((Data (Number (pos 64)) (Global name_x) (Of2 binary.Cons (Var 0 sort.Val) Nil)) ∷ []) }) ∷ []) }) ∷ []); specs = ((record { is_void = false; name = name_get; params = (name_p ∷ []); vars = ((name_v, sort.Val) ∷ (name_w, sort.Val) ∷ (name_s, sort.Int) ∷ []); pre = (record { opened = []; facts = ((Rel relation.Le (Number (pos 1)) (Var 2 sort.Int)) ∷ []); locals = ((name_p, (Var 0 sort.Val)) ∷ []); items = ((Data (Var 2 sort.Int) (Var 0 sort.Val) (Of2 binary.Cons (Var 1 sort.Val) Nil)) ∷ []) }); post = (record { opened = []; facts = ((Rel relation.Eq (Var 3 sort.Val) (Var 1 sort.Val)) ∷ []); locals = []; items = ((Data (Var 2 sort.Int) (Var 0 sort.Val) (Of2 binary.Cons (Var 1 sort.Val) Nil)) ∷ []) }) }) ∷ (record { is_void = false; name = name_main; params = ([]); vars = []; pre = (record { opened = []; facts = ([]); locals = []; items = ((Data (Number (pos 64)) (Global name_g) (Of2 binary.Cons (Of unary.Vi (Number (pos 3))) Nil)) ∷ (Data (Number (pos 64)) (Global name_arr) (Of2 binary.Cons (Of unary.Vi (Number (pos 1))) (Of2 binary.Cons (Of unary.Vi (Number (pos 2))) (Of2 binary.Cons (Of unary.Vi (Number (pos 0))) (Of2 binary.Cons (Of unary.Vi (Number (pos 0))) Nil))))) ∷ (Data (Number (pos 64)) (Global name_x) (Of2 binary.Cons (Of unary.Vi (Number (pos 3))) Nil)) ∷ (Data (Number (pos 64)) (Global name_l) (Of2 binary.Cons (Of unary.Vi (Number (pos 0))) Nil)) ∷ []) }); post = (record { opened = (sort.List ∷ sort.List ∷ []); facts = ([]); locals = []; items = ((Data (Number (pos 64)) (Global name_arr) (Var 1 sort.List)) ∷ (Lock (Number (pos 64)) (Global name_l) (record { name = name_ov; args = ([]) })) ∷ (Data (Number (pos 64)) (Global name_g) (Var 2 sort.List)) ∷ []) }) }) ∷ []) }) (record { is_void = false; name = name_main; params = ([]); vars = []; pre = (record { opened = []; facts = ([]); locals = []; items = ((Data (Number (pos 64)) (Global name_g) (Of2 binary.Cons (Of unary.Vi (Number (pos 3))) Nil)) ∷ (Data (Number (pos 64)) (Global name_arr) (Of2 binary.Cons (Of unary.Vi (Number (pos 1))) (Of2 binary.Cons (Of unary.Vi (Number (pos 2))) (Of2 binary.Cons (Of unary.Vi (Number (pos 0))) (Of2 binary.Cons (Of unary.Vi (Number (pos 0))) Nil))))) ∷ (Data (Number (pos 64)) (Global name_x) (Of2 binary.Cons (Of unary.Vi (Number (pos 3))) Nil)) ∷ (Data (Number (pos 64)) (Global name_l) (Of2 binary.Cons (Of unary.Vi (Number (pos 0))) Nil)) ∷ []) }); post = (record { opened = (sort.List ∷ sort.List ∷ []); facts = ([]); locals = []; items = ((Data (Number (pos 64)) (Global name_arr) (Var 1 sort.List)) ∷ (Lock (Number (pos 64)) (Global name_l) (record { name = name_ov; args = ([]) })) ∷ (Data (Number (pos 64)) (Global name_g) (Var 2 sort.List)) ∷ []) }) }) (record { temps = (name_s ∷ name_t ∷ name_i ∷ name_x1 ∷ name_d0 ∷ name_p1 ∷ name_q1 ∷ []); body = (c.Then (c.Set 0 (c.Const 1)) (c.Then (c.Set 1 (c.Const 2)) (c.Then (c.OnLock lock.Make (c.Address (root.Global name_l 1) c.Here)) (c.Then (c.OnLock lock.Release (c.Address (root.Global name_l 1) c.Here)) (c.Then (c.Set 4 (c.Const 2)) (c.Then (c.Load 1 (root.Global name_g 1) c.Here) (c.Then (c.Set 2 (c.Const 0)) (c.Then (c.Loop (c.Then (c.If (c.Nonzero kind.Signed (c.Binary two.Lt kind.Signed (c.Temp 2) (c.Const 10))) (c.Then (c.Set 4 (c.Const 1)) (c.Then (c.Set 2 (c.Binary two.Add kind.Signed (c.Temp 2) (c.Const 1))) c.End)) (c.Then c.Break c.End)) c.End)) (c.Then (c.Load 1 (root.Global name_g 1) c.Here) (c.Then (c.Call (Some 0) name_get ((c.Address (root.Global name_g 1) c.Here) ∷ [])) (c.Then (c.Set 3 (c.Const 7)) (c.Then (c.OnLock lock.Acquire (c.Address (root.Global name_l 1) c.Here)) (c.Then (c.Store (root.Global name_x 1) c.Here (c.Const 4)) (c.Then (c.OnLock lock.Release (c.Address (root.Global name_l 1) c.Here)) (c.Then (c.Return (Some (c.Temp 0))) c.End))))))))))))))) }) (s.Then 1 (s.Set ([]) ([])) s.NoBlock (s.Then 2 (s.MakeLock 3 (record { name = name_ov; args = ([]) }) ([]) ([])) s.NoBlock (s.Then 3 (s.Fold name_ov 0 ([]) ((Of unary.Vi (Number (pos 3))) ∷ []) ([])) s.NoBlock (s.Then 4 (s.Release 3 4 ([])) s.NoBlock (s.Then 5 (s.Set ([]) ([])) s.NoBlock (s.Then 6 (s.Load 0 ([]) ([])) s.NoBlock (s.Then 7 (s.Set ([]) ([])) s.NoBlock (s.Then 8 (s.While (record { opened = (sort.Int ∷ sort.Int ∷ []); facts = ((Rel relation.Le (Number (pos 0)) (Var 0 sort.Int)) ∷ (Rel relation.Le (Var 0 sort.Int) (Number (pos 10))) ∷ []); locals = ((name_s, (Of unary.Vi (Number (pos 1)))) ∷ (name_t, (Of unary.Vi (Number (pos 3)))) ∷ (name_i, (Of unary.Vi (Var 0 sort.Int))) ∷ (name_d0, (Of unary.Vi (Var 1 sort.Int))) ∷ []); items = ((Data (Number (pos 64)) (Global name_g) (Of2 binary.Cons (Of unary.Vi (Number (pos 3))) Nil)) ∷ (Data (Number (pos 64)) (Global name_arr) (Of2 binary.Cons (Of unary.Vi (Number (pos 1))) (Of2 binary.Cons (Of unary.Vi (Number (pos 2))) (Of2 binary.Cons (Of unary.Vi (Number (pos 0))) (Of2 binary.Cons (Of unary.Vi (Number (pos 0))) Nil))))) ∷ (Lock (Number (pos 64)) (Global name_l) (record { name = name_ov; args = ([]) })) ∷ []) }) (record { opened = (sort.Int ∷ sort.Int ∷ []); facts = ((Rel relation.Le (Number (pos 0)) (Var 0 sort.Int)) ∷ (Rel relation.Le (Var 0 sort.Int) (Number (pos 10))) ∷ (Rel relation.Le (Number (pos 10)) (Var 0 sort.Int)) ∷ []); locals = ((name_s, (Of unary.Vi (Number (pos 1)))) ∷ (name_t, (Of unary.Vi (Number (pos 3)))) ∷ (name_i, (Of unary.Vi (Var 0 sort.Int))) ∷ (name_d0, (Of unary.Vi (Var 1 sort.Int))) ∷ []); items = ((Data (Number (pos 64)) (Global name_g) (Of2 binary.Cons (Of unary.Vi (Number (pos 3))) Nil)) ∷ (Data (Number (pos 64)) (Global name_arr) (Of2 binary.Cons (Of unary.Vi (Number (pos 1))) (Of2 binary.Cons (Of unary.Vi (Number (pos 2))) (Of2 binary.Cons (Of unary.Vi (Number (pos 0))) (Of2 binary.Cons (Of unary.Vi (Number (pos 0))) Nil))))) ∷ (Lock (Number (pos 64)) (Global name_l) (record { name = name_ov; args = ([]) })) ∷ []) }) (name_k3 ∷ name_k4 ∷ []) ([]) (name_k1 ∷ name_k2 ∷ [])) (s.WithBlock (s.Then 9 (s.Meet ((Number (pos 0)) ∷ (Number (pos 2)) ∷ []) ([])) s.NoBlock s.End) (s.WithBlock (s.Then 10 (s.If ([]) ((record { lines = ((line.Comb (((pos 1), 0) ∷ ((pos 1), 2) ∷ [])) ∷ []) }) ∷ (record { lines = ((line.Comb (((pos 1), 1) ∷ ((pos 1), 2) ∷ [])) ∷ []) }) ∷ []) ([]) ([])) (s.WithBlock (s.Then 11 (s.Set ([]) ([])) s.NoBlock (s.Then 12 (s.Set ([]) ((record { lines = ((line.Comb (((pos 1), 0) ∷ ((pos 1), 3) ∷ [])) ∷ []) }) ∷ (record { lines = ((line.Comb (((pos 1), 1) ∷ ((pos 1), 3) ∷ [])) ∷ []) }) ∷ (record { lines = ((line.Comb (((pos 1), 0) ∷ ((pos 1), 3) ∷ [])) ∷ []) }) ∷ (record { lines = ((line.Comb (((pos 1), 1) ∷ ((pos 1), 3) ∷ [])) ∷ []) }) ∷ [])) s.NoBlock (s.Then 13 (s.Fall ((Of2 binary.Add (Named name_k1) (Number (pos 1))) ∷ (Number (pos 1)) ∷ []) ((record { lines = ((line.Comb (((pos 1), 0) ∷ ((pos 1), 3) ∷ [])) ∷ []) }) ∷ [])) s.NoBlock s.End))) (s.WithBlock (s.Then 14 (s.Break ((Named name_k1) ∷ (Named name_k2) ∷ []) ([])) s.NoBlock s.End) s.NoBlock)) s.End) s.NoBlock)) (s.Then 15 (s.Load 0 ([]) ([])) s.NoBlock (s.Then 16 (s.Call ((Global name_g) ∷ (Of unary.Vi (Number (pos 3))) ∷ (Number (pos 64)) ∷ []) ([]) ([]) (name_k5 ∷ [])) s.NoBlock (s.Then 17 (s.Set ([]) ([])) s.NoBlock (s.Then 18 (s.Acquire 1 ([])) s.NoBlock (s.Then 19 (s.Unfold 4 ((name_k6 ∷ []) ∷ [])) (s.WithBlock (s.Then 20 (s.Store 4 ([]) ([])) s.NoBlock (s.Then 21 (s.Fold name_ov 0 ([]) ((Of unary.Vi (Number (pos 4))) ∷ []) ([])) s.NoBlock (s.Then 22 (s.Release 3 4 ([])) s.NoBlock (s.Then 23 (s.Return ((Of2 binary.Cons (Of unary.Vi (Number (pos 1))) (Of2 binary.Cons (Of unary.Vi (Number (pos 2))) (Of2 binary.Cons (Of unary.Vi (Number (pos 0))) (Of2 binary.Cons (Of unary.Vi (Number (pos 0))) Nil)))) ∷ (Of2 binary.Cons (Of unary.Vi (Number (pos 3))) Nil) ∷ []) ([]) ([])) s.NoBlock s.End)))) s.NoBlock) s.End))))))))))))) ≡ (RefusedAt 2 16 1)
unfolding computing
random_461 = refl

random_462 : body_verdict (record { predicates = ((record { name = name_ov; args = ([]); cases = ((record { opened = (sort.Val ∷ []); facts = ([]); locals = []; items = ((Data (Number (pos 64)) (Global name_x) (Of2 binary.Cons (Var 0 sort.Val) Nil)) ∷ []) }) ∷ []) }) ∷ []); specs = ((record { is_void = false; name = name_get; params = (name_p ∷ []); vars = ((name_v, sort.Val) ∷ (name_w, sort.Val) ∷ (name_s, sort.Int) ∷ []); pre = (record { opened = []; facts = ((Rel relation.Le (Number (pos 1)) (Var 2 sort.Int)) ∷ []); locals = ((name_p, (Var 0 sort.Val)) ∷ []); items = ((Data (Var 2 sort.Int) (Var 0 sort.Val) (Of2 binary.Cons (Var 1 sort.Val) Nil)) ∷ []) }); post = (record { opened = []; facts = ((Rel relation.Eq (Var 3 sort.Val) (Var 1 sort.Val)) ∷ []); locals = []; items = ((Data (Var 2 sort.Int) (Var 0 sort.Val) (Of2 binary.Cons (Var 1 sort.Val) Nil)) ∷ []) }) }) ∷ (record { is_void = false; name = name_main; params = ([]); vars = []; pre = (record { opened = []; facts = ([]); locals = []; items = ((Data (Number (pos 64)) (Global name_g) (Of2 binary.Cons (Of unary.Vi (Number (pos 3))) Nil)) ∷ (Data (Number (pos 64)) (Global name_arr) (Of2 binary.Cons (Of unary.Vi (Number (pos 1))) (Of2 binary.Cons (Of unary.Vi (Number (pos 2))) (Of2 binary.Cons (Of unary.Vi (Number (pos 0))) (Of2 binary.Cons (Of unary.Vi (Number (pos 0))) Nil))))) ∷ (Data (Number (pos 64)) (Global name_x) (Of2 binary.Cons (Of unary.Vi (Number (pos 3))) Nil)) ∷ (Data (Number (pos 64)) (Global name_l) (Of2 binary.Cons (Of unary.Vi (Number (pos 0))) Nil)) ∷ []) }); post = (record { opened = (sort.List ∷ sort.List ∷ []); facts = ([]); locals = []; items = ((Data (Number (pos 64)) (Global name_arr) (Var 1 sort.List)) ∷ (Lock (Number (pos 64)) (Global name_l) (record { name = name_ov; args = ([]) })) ∷ (Data (Number (pos 64)) (Global name_g) (Var 2 sort.List)) ∷ []) }) }) ∷ []) }) (record { is_void = false; name = name_main; params = ([]); vars = []; pre = (record { opened = []; facts = ([]); locals = []; items = ((Data (Number (pos 64)) (Global name_g) (Of2 binary.Cons (Of unary.Vi (Number (pos 3))) Nil)) ∷ (Data (Number (pos 64)) (Global name_arr) (Of2 binary.Cons (Of unary.Vi (Number (pos 1))) (Of2 binary.Cons (Of unary.Vi (Number (pos 2))) (Of2 binary.Cons (Of unary.Vi (Number (pos 0))) (Of2 binary.Cons (Of unary.Vi (Number (pos 0))) Nil))))) ∷ (Data (Number (pos 64)) (Global name_x) (Of2 binary.Cons (Of unary.Vi (Number (pos 3))) Nil)) ∷ (Data (Number (pos 64)) (Global name_l) (Of2 binary.Cons (Of unary.Vi (Number (pos 0))) Nil)) ∷ []) }); post = (record { opened = (sort.List ∷ sort.List ∷ []); facts = ([]); locals = []; items = ((Data (Number (pos 64)) (Global name_arr) (Var 1 sort.List)) ∷ (Lock (Number (pos 64)) (Global name_l) (record { name = name_ov; args = ([]) })) ∷ (Data (Number (pos 64)) (Global name_g) (Var 2 sort.List)) ∷ []) }) }) (record { temps = (name_s ∷ name_t ∷ name_i ∷ name_x1 ∷ name_d0 ∷ name_p1 ∷ name_q1 ∷ []); body = (c.Then (c.Set 0 (c.Const 1)) (c.Then (c.Set 1 (c.Const 2)) (c.Then (c.OnLock lock.Make (c.Address (root.Global name_l 1) c.Here)) (c.Then (c.OnLock lock.Release (c.Address (root.Global name_l 1) c.Here)) (c.Then (c.Set 4 (c.Const 2)) (c.Then (c.Load 1 (root.Global name_g 1) c.Here) (c.Then (c.Set 2 (c.Const 0)) (c.Then (c.Loop (c.Then (c.If (c.Nonzero kind.Signed (c.Binary two.Lt kind.Signed (c.Temp 2) (c.Const 10))) (c.Then (c.Set 4 (c.Const 1)) (c.Then (c.Set 2 (c.Binary two.Add kind.Signed (c.Temp 2) (c.Const 1))) c.End)) (c.Then c.Break c.End)) c.End)) (c.Then (c.Load 1 (root.Global name_g 1) c.Here) (c.Then (c.Call (Some 0) name_get ((c.Address (root.Global name_g 1) c.Here) ∷ [])) (c.Then (c.Set 3 (c.Const 7)) (c.Then (c.OnLock lock.Acquire (c.Address (root.Global name_l 1) c.Here)) (c.Then (c.Store (root.Global name_x 1) c.Here (c.Const 4)) (c.Then (c.OnLock lock.Release (c.Address (root.Global name_l 1) c.Here)) (c.Then (c.Return (Some (c.Temp 0))) c.End))))))))))))))) }) (s.Then 1 (s.Set ([]) ([])) s.NoBlock (s.Then 2 (s.Set ([]) ([])) s.NoBlock (s.Then 3 (s.MakeLock 3 (record { name = name_ov; args = ([]) }) ([]) ([])) s.NoBlock (s.Then 4 (s.Fold name_ov 0 ([]) ((Of unary.Vi (Number (pos 3))) ∷ []) ([])) s.NoBlock (s.Then 5 (s.Release 3 4 ([])) s.NoBlock (s.Then 6 (s.Set ([]) ([])) s.NoBlock (s.Then 7 (s.Load 0 ([]) ([])) s.NoBlock (s.Then 8 (s.Set ([]) ([])) s.NoBlock (s.Then 9 (s.Acquire 1 ([])) s.NoBlock (s.Then 10 (s.Load 0 ([]) ([])) s.NoBlock (s.Then 11 (s.Call ((Global name_g) ∷ (Of unary.Vi (Number (pos 3))) ∷ (Number (pos 64)) ∷ []) ([]) ([]) (name_k5 ∷ [])) s.NoBlock (s.Then 12 (s.Set ([]) ([])) s.NoBlock (s.Then 13 (s.While (record { opened = (sort.Int ∷ sort.Int ∷ []); facts = ((Rel relation.Le (Number (pos 0)) (Var 0 sort.Int)) ∷ (Rel relation.Le (Var 0 sort.Int) (Number (pos 10))) ∷ []); locals = ((name_s, (Of unary.Vi (Number (pos 1)))) ∷ (name_t, (Of unary.Vi (Number (pos 3)))) ∷ (name_i, (Of unary.Vi (Var 0 sort.Int))) ∷ (name_d0, (Of unary.Vi (Var 1 sort.Int))) ∷ []); items = ((Data (Number (pos 64)) (Global name_g) (Of2 binary.Cons (Of unary.Vi (Number (pos 3))) Nil)) ∷ (Data (Number (pos 64)) (Global name_arr) (Of2 binary.Cons (Of unary.Vi (Number (pos 1))) (Of2 binary.Cons (Of unary.Vi (Number (pos 2))) (Of2 binary.Cons (Of unary.Vi (Number (pos 0))) (Of2 binary.Cons (Of unary.Vi (Number (pos 0))) Nil))))) ∷ (Lock (Number (pos 64)) (Global name_l) (record { name = name_ov; args = ([]) })) ∷ []) }) (record { opened = (sort.Int ∷ sort.Int ∷ []); facts = ((Rel relation.Le (Number (pos 0)) (Var 0 sort.Int)) ∷ (Rel relation.Le (Var 0 sort.Int) (Number (pos 10))) ∷ (Rel relation.Le (Number (pos 10)) (Var 0 sort.Int)) ∷ []); locals = ((name_s, (Of unary.Vi (Number (pos 1)))) ∷ (name_t, (Of unary.Vi (Number (pos 3)))) ∷ (name_i, (Of unary.Vi (Var 0 sort.Int))) ∷ (name_d0, (Of unary.Vi (Var 1 sort.Int))) ∷ []); items = ((Data (Number (pos 64)) (Global name_g) (Of2 binary.Cons (Of unary.Vi (Number (pos 3))) Nil)) ∷ (Data (Number (pos 64)) (Global name_arr) (Of2 binary.Cons (Of unary.Vi (Number (pos 1))) (Of2 binary.Cons (Of unary.Vi (Number (pos 2))) (Of2 binary.Cons (Of unary.Vi (Number (pos 0))) (Of2 binary.Cons (Of unary.Vi (Number (pos 0))) Nil))))) ∷ (Lock (Number (pos 64)) (Global name_l) (record { name = name_ov; args = ([]) })) ∷ []) }) (name_k3 ∷ name_k4 ∷ []) ([]) (name_k1 ∷ name_k2 ∷ [])) (s.WithBlock (s.Then 14 (s.Meet ((Number (pos 0)) ∷ (Number (pos 2)) ∷ []) ([])) s.NoBlock s.End) (s.WithBlock (s.Then 15 (s.If ([]) ((record { lines = ((line.Comb (((pos 1), 0) ∷ ((pos 1), 2) ∷ [])) ∷ []) }) ∷ (record { lines = ((line.Comb (((pos 1), 1) ∷ ((pos 1), 2) ∷ [])) ∷ []) }) ∷ []) ([]) ([])) (s.WithBlock (s.Then 16 (s.Set ([]) ([])) s.NoBlock (s.Then 17 (s.Set ([]) ((record { lines = ((line.Comb (((pos 1), 0) ∷ ((pos 1), 3) ∷ [])) ∷ []) }) ∷ (record { lines = ((line.Comb (((pos 1), 1) ∷ ((pos 1), 3) ∷ [])) ∷ []) }) ∷ (record { lines = ((line.Comb (((pos 1), 0) ∷ ((pos 1), 3) ∷ [])) ∷ []) }) ∷ (record { lines = ((line.Comb (((pos 1), 1) ∷ ((pos 1), 3) ∷ [])) ∷ []) }) ∷ [])) s.NoBlock (s.Then 18 (s.Fall ((Of2 binary.Add (Named name_k1) (Number (pos 1))) ∷ (Number (pos 1)) ∷ []) ((record { lines = ((line.Comb (((pos 1), 0) ∷ ((pos 1), 3) ∷ [])) ∷ []) }) ∷ [])) s.NoBlock s.End))) (s.WithBlock (s.Then 19 (s.Break ((Named name_k1) ∷ (Named name_k2) ∷ []) ([])) s.NoBlock s.End) s.NoBlock)) s.End) s.NoBlock)) (s.Then 20 (s.Unfold 4 ((name_k6 ∷ []) ∷ [])) (s.WithBlock (s.Then 21 (s.Store 4 ([]) ([])) s.NoBlock (s.Then 22 (s.Fold name_ov 0 ([]) ((Of unary.Vi (Number (pos 4))) ∷ []) ([])) s.NoBlock (s.Then 23 (s.Release 3 4 ([])) s.NoBlock (s.Then 24 (s.Return ((Of2 binary.Cons (Of unary.Vi (Number (pos 1))) (Of2 binary.Cons (Of unary.Vi (Number (pos 2))) (Of2 binary.Cons (Of unary.Vi (Number (pos 0))) (Of2 binary.Cons (Of unary.Vi (Number (pos 0))) Nil)))) ∷ (Of2 binary.Cons (Of unary.Vi (Number (pos 3))) Nil) ∷ []) ([]) ([])) s.NoBlock s.End)))) s.NoBlock) s.End)))))))))))))) ≡ (RefusedAt 9 17 1)
unfolding computing
random_462 = refl

random_463 : body_verdict (record { predicates = ((record { name = name_ov; args = ([]); cases = ((record { opened = (sort.Val ∷ []); facts = ([]); locals = []; items = ((Data (Number (pos 64)) (Global name_x) (Of2 binary.Cons (Var 0 sort.Val) Nil)) ∷ []) }) ∷ []) }) ∷ []); specs = ((record { is_void = false; name = name_get; params = (name_p ∷ []); vars = ((name_v, sort.Val) ∷ (name_w, sort.Val) ∷ (name_s, sort.Int) ∷ []); pre = (record { opened = []; facts = ((Rel relation.Le (Number (pos 1)) (Var 2 sort.Int)) ∷ []); locals = ((name_p, (Var 0 sort.Val)) ∷ []); items = ((Data (Var 2 sort.Int) (Var 0 sort.Val) (Of2 binary.Cons (Var 1 sort.Val) Nil)) ∷ []) }); post = (record { opened = []; facts = ((Rel relation.Eq (Var 3 sort.Val) (Var 1 sort.Val)) ∷ []); locals = []; items = ((Data (Var 2 sort.Int) (Var 0 sort.Val) (Of2 binary.Cons (Var 1 sort.Val) Nil)) ∷ []) }) }) ∷ (record { is_void = false; name = name_main; params = ([]); vars = []; pre = (record { opened = []; facts = ([]); locals = []; items = ((Data (Number (pos 64)) (Global name_g) (Of2 binary.Cons (Of unary.Vi (Number (pos 3))) Nil)) ∷ (Data (Number (pos 64)) (Global name_arr) (Of2 binary.Cons (Of unary.Vi (Number (pos 1))) (Of2 binary.Cons (Of unary.Vi (Number (pos 2))) (Of2 binary.Cons (Of unary.Vi (Number (pos 0))) (Of2 binary.Cons (Of unary.Vi (Number (pos 0))) Nil))))) ∷ (Data (Number (pos 64)) (Global name_x) (Of2 binary.Cons (Of unary.Vi (Number (pos 3))) Nil)) ∷ (Data (Number (pos 64)) (Global name_l) (Of2 binary.Cons (Of unary.Vi (Number (pos 0))) Nil)) ∷ []) }); post = (record { opened = (sort.List ∷ sort.List ∷ []); facts = ([]); locals = []; items = ((Data (Number (pos 64)) (Global name_arr) (Var 1 sort.List)) ∷ (Lock (Number (pos 64)) (Global name_l) (record { name = name_ov; args = ([]) })) ∷ (Data (Number (pos 64)) (Global name_g) (Var 2 sort.List)) ∷ []) }) }) ∷ []) }) (record { is_void = false; name = name_get; params = (name_p ∷ []); vars = ((name_v, sort.Val) ∷ (name_w, sort.Val) ∷ (name_s, sort.Int) ∷ []); pre = (record { opened = []; facts = ((Rel relation.Le (Number (pos 1)) (Var 2 sort.Int)) ∷ []); locals = ((name_p, (Var 0 sort.Val)) ∷ []); items = ((Data (Var 2 sort.Int) (Var 0 sort.Val) (Of2 binary.Cons (Var 1 sort.Val) Nil)) ∷ []) }); post = (record { opened = []; facts = ((Rel relation.Eq (Var 3 sort.Val) (Var 1 sort.Val)) ∷ []); locals = []; items = ((Data (Var 2 sort.Int) (Var 0 sort.Val) (Of2 binary.Cons (Var 1 sort.Val) Nil)) ∷ []) }) }) (record { temps = (name_p ∷ name_t ∷ []); body = (c.Then (c.Load 1 (root.Temp 0) c.Here) (c.Then (c.Return (Some (c.Temp 1))) c.End)) }) (s.Then 1 (s.Load 0 ([]) ([])) s.NoBlock s.End) ≡ (RefusedAt 2 0 10)
unfolding computing
random_463 = refl

random_464 : body_verdict (record { predicates = ((record { name = name_ov; args = ([]); cases = ((record { opened = (sort.Val ∷ []); facts = ([]); locals = []; items = ((Data (Number (pos 64)) (Global name_x) (Of2 binary.Cons (Var 0 sort.Val) Nil)) ∷ []) }) ∷ []) }) ∷ []); specs = ((record { is_void = false; name = name_get; params = (name_p ∷ []); vars = ((name_v, sort.Val) ∷ (name_w, sort.Val) ∷ (name_s, sort.Int) ∷ []); pre = (record { opened = []; facts = ((Rel relation.Le (Number (pos 1)) (Var 2 sort.Int)) ∷ []); locals = ((name_p, (Var 0 sort.Val)) ∷ []); items = ((Data (Var 2 sort.Int) (Var 0 sort.Val) (Of2 binary.Cons (Var 1 sort.Val) Nil)) ∷ []) }); post = (record { opened = []; facts = ((Rel relation.Eq (Var 3 sort.Val) (Var 1 sort.Val)) ∷ []); locals = []; items = ((Data (Var 2 sort.Int) (Var 0 sort.Val) (Of2 binary.Cons (Var 1 sort.Val) Nil)) ∷ []) }) }) ∷ (record { is_void = false; name = name_main; params = ([]); vars = []; pre = (record { opened = []; facts = ([]); locals = []; items = ((Data (Number (pos 64)) (Global name_g) (Of2 binary.Cons (Of unary.Vi (Number (pos 3))) Nil)) ∷ (Data (Number (pos 64)) (Global name_arr) (Of2 binary.Cons (Of unary.Vi (Number (pos 1))) (Of2 binary.Cons (Of unary.Vi (Number (pos 2))) (Of2 binary.Cons (Of unary.Vi (Number (pos 0))) (Of2 binary.Cons (Of unary.Vi (Number (pos 0))) Nil))))) ∷ (Data (Number (pos 64)) (Global name_x) (Of2 binary.Cons (Of unary.Vi (Number (pos 3))) Nil)) ∷ (Data (Number (pos 64)) (Global name_l) (Of2 binary.Cons (Of unary.Vi (Number (pos 0))) Nil)) ∷ []) }); post = (record { opened = (sort.List ∷ sort.List ∷ []); facts = ([]); locals = []; items = ((Data (Number (pos 64)) (Global name_arr) (Var 1 sort.List)) ∷ (Lock (Number (pos 64)) (Global name_l) (record { name = name_ov; args = ([]) })) ∷ (Data (Number (pos 64)) (Global name_g) (Var 2 sort.List)) ∷ []) }) }) ∷ []) }) (record { is_void = false; name = name_main; params = ([]); vars = []; pre = (record { opened = []; facts = ([]); locals = []; items = ((Data (Number (pos 64)) (Global name_g) (Of2 binary.Cons (Of unary.Vi (Number (pos 3))) Nil)) ∷ (Data (Number (pos 64)) (Global name_arr) (Of2 binary.Cons (Of unary.Vi (Number (pos 1))) (Of2 binary.Cons (Of unary.Vi (Number (pos 2))) (Of2 binary.Cons (Of unary.Vi (Number (pos 0))) (Of2 binary.Cons (Of unary.Vi (Number (pos 0))) Nil))))) ∷ (Data (Number (pos 64)) (Global name_x) (Of2 binary.Cons (Of unary.Vi (Number (pos 3))) Nil)) ∷ (Data (Number (pos 64)) (Global name_l) (Of2 binary.Cons (Of unary.Vi (Number (pos 0))) Nil)) ∷ []) }); post = (record { opened = (sort.List ∷ sort.List ∷ []); facts = ([]); locals = []; items = ((Data (Number (pos 64)) (Global name_arr) (Var 1 sort.List)) ∷ (Lock (Number (pos 64)) (Global name_l) (record { name = name_ov; args = ([]) })) ∷ (Data (Number (pos 64)) (Global name_g) (Var 2 sort.List)) ∷ []) }) }) (record { temps = (name_s ∷ name_t ∷ name_i ∷ name_x1 ∷ name_d0 ∷ name_p1 ∷ name_q1 ∷ []); body = (c.Then (c.Set 0 (c.Const 1)) (c.Then (c.Set 1 (c.Const 2)) (c.Then (c.OnLock lock.Make (c.Address (root.Global name_l 1) c.Here)) (c.Then (c.OnLock lock.Release (c.Address (root.Global name_l 1) c.Here)) (c.Then (c.Set 4 (c.Const 2)) (c.Then (c.Load 1 (root.Global name_g 1) c.Here) (c.Then (c.Set 2 (c.Const 0)) (c.Then (c.Loop (c.Then (c.If (c.Nonzero kind.Signed (c.Binary two.Lt kind.Signed (c.Temp 2) (c.Const 10))) (c.Then (c.Set 4 (c.Const 1)) (c.Then (c.Set 2 (c.Binary two.Add kind.Signed (c.Temp 2) (c.Const 1))) c.End)) (c.Then c.Break c.End)) c.End)) (c.Then (c.Load 1 (root.Global name_g 1) c.Here) (c.Then (c.Call (Some 0) name_get ((c.Address (root.Global name_g 1) c.Here) ∷ [])) (c.Then (c.Set 3 (c.Const 7)) (c.Then (c.OnLock lock.Acquire (c.Address (root.Global name_l 1) c.Here)) (c.Then (c.Store (root.Global name_x 1) c.Here (c.Const 4)) (c.Then (c.OnLock lock.Release (c.Address (root.Global name_l 1) c.Here)) (c.Then (c.Return (Some (c.Temp 0))) c.End))))))))))))))) }) (s.Then 1 (s.Set ([]) ([])) s.NoBlock (s.Then 2 (s.Set ([]) ([])) s.NoBlock (s.Then 3 (s.MakeLock 3 (record { name = name_ov; args = ([]) }) ([]) ([])) s.NoBlock (s.Then 4 (s.Fold name_ov 0 ([]) ((Of unary.Vi (Number (pos 3))) ∷ []) ([])) s.NoBlock (s.Then 5 (s.Release 3 4 ([])) s.NoBlock (s.Then 6 (s.Set ([]) ([])) s.NoBlock (s.Then 7 (s.Load 0 ([]) ([])) s.NoBlock (s.Then 8 (s.Set ([]) ([])) s.NoBlock (s.Then 9 (s.While (record { opened = (sort.Int ∷ sort.Int ∷ []); facts = ((Rel relation.Le (Number (pos 0)) (Var 0 sort.Int)) ∷ (Rel relation.Le (Var 0 sort.Int) (Number (pos 10))) ∷ []); locals = ((name_s, (Of unary.Vi (Number (pos 1)))) ∷ (name_t, (Of unary.Vi (Number (pos 3)))) ∷ (name_i, (Of unary.Vi (Var 0 sort.Int))) ∷ (name_d0, (Of unary.Vi (Var 1 sort.Int))) ∷ []); items = ((Data (Number (pos 64)) (Global name_g) (Of2 binary.Cons (Of unary.Vi (Number (pos 3))) Nil)) ∷ (Data (Number (pos 64)) (Global name_arr) (Of2 binary.Cons (Of unary.Vi (Number (pos 1))) (Of2 binary.Cons (Of unary.Vi (Number (pos 2))) (Of2 binary.Cons (Of unary.Vi (Number (pos 0))) (Of2 binary.Cons (Of unary.Vi (Number (pos 0))) Nil))))) ∷ (Lock (Number (pos 64)) (Global name_l) (record { name = name_ov; args = ([]) })) ∷ []) }) (record { opened = (sort.Int ∷ sort.Int ∷ []); facts = ((Rel relation.Le (Number (pos 0)) (Var 0 sort.Int)) ∷ (Rel relation.Le (Var 0 sort.Int) (Number (pos 10))) ∷ (Rel relation.Le (Number (pos 10)) (Var 0 sort.Int)) ∷ []); locals = ((name_s, (Of unary.Vi (Number (pos 1)))) ∷ (name_t, (Of unary.Vi (Number (pos 3)))) ∷ (name_i, (Of unary.Vi (Var 0 sort.Int))) ∷ (name_d0, (Of unary.Vi (Var 1 sort.Int))) ∷ []); items = ((Data (Number (pos 64)) (Global name_g) (Of2 binary.Cons (Of unary.Vi (Number (pos 3))) Nil)) ∷ (Data (Number (pos 64)) (Global name_arr) (Of2 binary.Cons (Of unary.Vi (Number (pos 1))) (Of2 binary.Cons (Of unary.Vi (Number (pos 2))) (Of2 binary.Cons (Of unary.Vi (Number (pos 0))) (Of2 binary.Cons (Of unary.Vi (Number (pos 0))) Nil))))) ∷ (Lock (Number (pos 64)) (Global name_l) (record { name = name_ov; args = ([]) })) ∷ []) }) (name_k3 ∷ name_k4 ∷ []) ([]) (name_k1 ∷ name_k2 ∷ [])) (s.WithBlock (s.Then 10 (s.Continue ([]) ([])) s.NoBlock (s.Then 11 (s.Meet ((Number (pos 0)) ∷ (Number (pos 2)) ∷ []) ([])) s.NoBlock s.End)) (s.WithBlock (s.Then 12 (s.If ([]) ((record { lines = ((line.Comb (((pos 1), 0) ∷ ((pos 1), 2) ∷ [])) ∷ []) }) ∷ (record { lines = ((line.Comb (((pos 1), 1) ∷ ((pos 1), 2) ∷ [])) ∷ []) }) ∷ []) ([]) ([])) (s.WithBlock (s.Then 13 (s.Set ([]) ([])) s.NoBlock (s.Then 14 (s.Set ([]) ((record { lines = ((line.Comb (((pos 1), 0) ∷ ((pos 1), 3) ∷ [])) ∷ []) }) ∷ (record { lines = ((line.Comb (((pos 1), 1) ∷ ((pos 1), 3) ∷ [])) ∷ []) }) ∷ (record { lines = ((line.Comb (((pos 1), 0) ∷ ((pos 1), 3) ∷ [])) ∷ []) }) ∷ (record { lines = ((line.Comb (((pos 1), 1) ∷ ((pos 1), 3) ∷ [])) ∷ []) }) ∷ [])) s.NoBlock (s.Then 15 (s.Fall ((Of2 binary.Add (Named name_k1) (Number (pos 1))) ∷ (Number (pos 1)) ∷ []) ((record { lines = ((line.Comb (((pos 1), 0) ∷ ((pos 1), 3) ∷ [])) ∷ []) }) ∷ [])) s.NoBlock s.End))) (s.WithBlock (s.Then 16 (s.Break ((Named name_k1) ∷ (Named name_k2) ∷ []) ([])) s.NoBlock s.End) s.NoBlock)) s.End) s.NoBlock)) (s.Then 17 (s.Load 0 ([]) ([])) s.NoBlock (s.Then 18 (s.Call ((Global name_g) ∷ (Of unary.Vi (Number (pos 3))) ∷ (Number (pos 64)) ∷ []) ([]) ([]) (name_k5 ∷ [])) s.NoBlock (s.Then 19 (s.Set ([]) ([])) s.NoBlock (s.Then 20 (s.Acquire 1 ([])) s.NoBlock (s.Then 21 (s.Unfold 4 ((name_k6 ∷ []) ∷ [])) (s.WithBlock (s.Then 22 (s.Store 4 ([]) ([])) s.NoBlock (s.Then 23 (s.Fold name_ov 0 ([]) ((Of unary.Vi (Number (pos 4))) ∷ []) ([])) s.NoBlock (s.Then 24 (s.Release 3 4 ([])) s.NoBlock (s.Then 25 (s.Return ((Of2 binary.Cons (Of unary.Vi (Number (pos 1))) (Of2 binary.Cons (Of unary.Vi (Number (pos 2))) (Of2 binary.Cons (Of unary.Vi (Number (pos 0))) (Of2 binary.Cons (Of unary.Vi (Number (pos 0))) Nil)))) ∷ (Of2 binary.Cons (Of unary.Vi (Number (pos 3))) Nil) ∷ []) ([]) ([])) s.NoBlock s.End)))) s.NoBlock) s.End)))))))))))))) ≡ (RefusedAt 10 8 1)
unfolding computing
random_464 = refl

random_465 : body_verdict (record { predicates = ((record { name = name_ov; args = ([]); cases = ((record { opened = (sort.Val ∷ []); facts = ([]); locals = []; items = ((Data (Number (pos 64)) (Global name_x) (Of2 binary.Cons (Var 0 sort.Val) Nil)) ∷ []) }) ∷ []) }) ∷ []); specs = ((record { is_void = false; name = name_get; params = (name_p ∷ []); vars = ((name_v, sort.Val) ∷ (name_w, sort.Val) ∷ (name_s, sort.Int) ∷ []); pre = (record { opened = []; facts = ((Rel relation.Le (Number (pos 1)) (Var 2 sort.Int)) ∷ []); locals = ((name_p, (Var 0 sort.Val)) ∷ []); items = ((Data (Var 2 sort.Int) (Var 0 sort.Val) (Of2 binary.Cons (Var 1 sort.Val) Nil)) ∷ []) }); post = (record { opened = []; facts = ((Rel relation.Eq (Var 3 sort.Val) (Var 1 sort.Val)) ∷ []); locals = []; items = ((Data (Var 2 sort.Int) (Var 0 sort.Val) (Of2 binary.Cons (Var 1 sort.Val) Nil)) ∷ []) }) }) ∷ (record { is_void = false; name = name_main; params = ([]); vars = []; pre = (record { opened = []; facts = ([]); locals = []; items = ((Data (Number (pos 64)) (Global name_g) (Of2 binary.Cons (Of unary.Vi (Number (pos 3))) Nil)) ∷ (Data (Number (pos 64)) (Global name_arr) (Of2 binary.Cons (Of unary.Vi (Number (pos 1))) (Of2 binary.Cons (Of unary.Vi (Number (pos 2))) (Of2 binary.Cons (Of unary.Vi (Number (pos 0))) (Of2 binary.Cons (Of unary.Vi (Number (pos 0))) Nil))))) ∷ (Data (Number (pos 64)) (Global name_x) (Of2 binary.Cons (Of unary.Vi (Number (pos 3))) Nil)) ∷ (Data (Number (pos 64)) (Global name_l) (Of2 binary.Cons (Of unary.Vi (Number (pos 0))) Nil)) ∷ []) }); post = (record { opened = (sort.List ∷ sort.List ∷ []); facts = ([]); locals = []; items = ((Data (Number (pos 64)) (Global name_arr) (Var 1 sort.List)) ∷ (Lock (Number (pos 64)) (Global name_l) (record { name = name_ov; args = ([]) })) ∷ (Data (Number (pos 64)) (Global name_g) (Var 2 sort.List)) ∷ []) }) }) ∷ []) }) (record { is_void = false; name = name_main; params = ([]); vars = []; pre = (record { opened = []; facts = ([]); locals = []; items = ((Data (Number (pos 64)) (Global name_g) (Of2 binary.Cons (Of unary.Vi (Number (pos 3))) Nil)) ∷ (Data (Number (pos 64)) (Global name_arr) (Of2 binary.Cons (Of unary.Vi (Number (pos 1))) (Of2 binary.Cons (Of unary.Vi (Number (pos 2))) (Of2 binary.Cons (Of unary.Vi (Number (pos 0))) (Of2 binary.Cons (Of unary.Vi (Number (pos 0))) Nil))))) ∷ (Data (Number (pos 64)) (Global name_x) (Of2 binary.Cons (Of unary.Vi (Number (pos 3))) Nil)) ∷ (Data (Number (pos 64)) (Global name_l) (Of2 binary.Cons (Of unary.Vi (Number (pos 0))) Nil)) ∷ []) }); post = (record { opened = (sort.List ∷ sort.List ∷ []); facts = ([]); locals = []; items = ((Data (Number (pos 64)) (Global name_arr) (Var 1 sort.List)) ∷ (Lock (Number (pos 64)) (Global name_l) (record { name = name_ov; args = ([]) })) ∷ (Data (Number (pos 64)) (Global name_g) (Var 2 sort.List)) ∷ []) }) }) (record { temps = (name_s ∷ name_t ∷ name_i ∷ name_x1 ∷ name_d0 ∷ name_p1 ∷ name_q1 ∷ []); body = (c.Then (c.Set 0 (c.Const 1)) (c.Then (c.Set 1 (c.Const 2)) (c.Then (c.OnLock lock.Make (c.Address (root.Global name_l 1) c.Here)) (c.Then (c.OnLock lock.Release (c.Address (root.Global name_l 1) c.Here)) (c.Then (c.Set 4 (c.Const 2)) (c.Then (c.Load 1 (root.Global name_g 1) c.Here) (c.Then (c.Set 2 (c.Const 0)) (c.Then (c.Loop (c.Then (c.If (c.Nonzero kind.Signed (c.Binary two.Lt kind.Signed (c.Temp 2) (c.Const 10))) (c.Then (c.Set 4 (c.Const 1)) (c.Then (c.Set 2 (c.Binary two.Add kind.Signed (c.Temp 2) (c.Const 1))) c.End)) (c.Then c.Break c.End)) c.End)) (c.Then (c.Load 1 (root.Global name_g 1) c.Here) (c.Then (c.Call (Some 0) name_get ((c.Address (root.Global name_g 1) c.Here) ∷ [])) (c.Then (c.Set 3 (c.Const 7)) (c.Then (c.OnLock lock.Acquire (c.Address (root.Global name_l 1) c.Here)) (c.Then (c.Store (root.Global name_x 1) c.Here (c.Const 4)) (c.Then (c.OnLock lock.Release (c.Address (root.Global name_l 1) c.Here)) (c.Then (c.Return (Some (c.Temp 0))) c.End))))))))))))))) }) (s.Then 1 (s.Set ([]) ([])) s.NoBlock (s.Then 2 (s.Set ([]) ([])) s.NoBlock (s.Then 3 (s.MakeLock 3 (record { name = name_ov; args = ([]) }) ([]) ([])) s.NoBlock (s.Then 4 (s.Fold name_ov 0 ([]) ((Of unary.Vi (Number (pos 3))) ∷ []) ([])) s.NoBlock (s.Then 5 (s.Release 3 4 ([])) s.NoBlock (s.Then 6 (s.Set ([]) ([])) s.NoBlock (s.Then 7 (s.Load 0 ([]) ([])) s.NoBlock (s.Then 8 (s.Set ([]) ([])) s.NoBlock (s.Then 9 (s.While (record { opened = (sort.Int ∷ sort.Int ∷ []); facts = ((Rel relation.Le (Number (pos 0)) (Var 0 sort.Int)) ∷ (Rel relation.Le (Var 0 sort.Int) (Number (pos 10))) ∷ []); locals = ((name_s, (Of unary.Vi (Number (pos 1)))) ∷ (name_t, (Of unary.Vi (Number (pos 3)))) ∷ (name_i, (Of unary.Vi (Var 0 sort.Int))) ∷ (name_d0, (Of unary.Vi (Var 1 sort.Int))) ∷ []); items = ((Data (Number (pos 64)) (Global name_g) (Of2 binary.Cons (Of unary.Vi (Number (pos 3))) Nil)) ∷ (Data (Number (pos 64)) (Global name_arr) (Of2 binary.Cons (Of unary.Vi (Number (pos 1))) (Of2 binary.Cons (Of unary.Vi (Number (pos 2))) (Of2 binary.Cons (Of unary.Vi (Number (pos 0))) (Of2 binary.Cons (Of unary.Vi (Number (pos 0))) Nil))))) ∷ (Lock (Number (pos 64)) (Global name_l) (record { name = name_ov; args = ([]) })) ∷ []) }) (record { opened = (sort.Int ∷ sort.Int ∷ []); facts = ((Rel relation.Le (Number (pos 0)) (Var 0 sort.Int)) ∷ (Rel relation.Le (Var 0 sort.Int) (Number (pos 10))) ∷ (Rel relation.Le (Number (pos 10)) (Var 0 sort.Int)) ∷ []); locals = ((name_s, (Of unary.Vi (Number (pos 1)))) ∷ (name_t, (Of unary.Vi (Number (pos 3)))) ∷ (name_i, (Of unary.Vi (Var 0 sort.Int))) ∷ (name_d0, (Of unary.Vi (Var 1 sort.Int))) ∷ []); items = ((Data (Number (pos 64)) (Global name_g) (Of2 binary.Cons (Of unary.Vi (Number (pos 3))) Nil)) ∷ (Data (Number (pos 64)) (Global name_arr) (Of2 binary.Cons (Of unary.Vi (Number (pos 1))) (Of2 binary.Cons (Of unary.Vi (Number (pos 2))) (Of2 binary.Cons (Of unary.Vi (Number (pos 0))) (Of2 binary.Cons (Of unary.Vi (Number (pos 0))) Nil))))) ∷ (Lock (Number (pos 64)) (Global name_l) (record { name = name_ov; args = ([]) })) ∷ []) }) (name_k3 ∷ name_k4 ∷ []) ([]) (name_k1 ∷ name_k2 ∷ [])) (s.WithBlock (s.Then 10 (s.Meet ((Number (pos 0)) ∷ (Number (pos 2)) ∷ []) ([])) s.NoBlock s.End) (s.WithBlock (s.Then 11 (s.If ([]) ((record { lines = ((line.Comb (((pos 1), 0) ∷ ((pos 1), 2) ∷ [])) ∷ []) }) ∷ (record { lines = ((line.Comb (((pos 1), 1) ∷ ((pos 1), 2) ∷ [])) ∷ []) }) ∷ []) ([]) ([])) (s.WithBlock (s.Then 12 (s.Set ([]) ([])) s.NoBlock (s.Then 13 (s.Set ([]) ((record { lines = ((line.Comb (((pos 1), 0) ∷ ((pos 1), 3) ∷ [])) ∷ []) }) ∷ (record { lines = ((line.Comb (((pos 1), 1) ∷ ((pos 1), 3) ∷ [])) ∷ []) }) ∷ (record { lines = ((line.Comb (((pos 8), 0) ∷ ((pos 1), 3) ∷ [])) ∷ []) }) ∷ (record { lines = ((line.Comb (((pos 1), 1) ∷ ((pos 1), 3) ∷ [])) ∷ []) }) ∷ [])) s.NoBlock (s.Then 14 (s.Fall ((Of2 binary.Add (Named name_k1) (Number (pos 1))) ∷ (Number (pos 1)) ∷ []) ((record { lines = ((line.Comb (((pos 1), 0) ∷ ((pos 1), 3) ∷ [])) ∷ []) }) ∷ [])) s.NoBlock s.End))) (s.WithBlock (s.Then 15 (s.Break ((Named name_k1) ∷ (Named name_k2) ∷ []) ([])) s.NoBlock s.End) s.NoBlock)) s.End) s.NoBlock)) (s.Then 16 (s.Load 0 ([]) ([])) s.NoBlock (s.Then 17 (s.Call ((Global name_g) ∷ (Of unary.Vi (Number (pos 3))) ∷ (Number (pos 64)) ∷ []) ([]) ([]) (name_k5 ∷ [])) s.NoBlock (s.Then 18 (s.Set ([]) ([])) s.NoBlock (s.Then 19 (s.Acquire 1 ([])) s.NoBlock (s.Then 20 (s.Unfold 4 ((name_k6 ∷ []) ∷ [])) (s.WithBlock (s.Then 21 (s.Store 4 ([]) ([])) s.NoBlock (s.Then 22 (s.Fold name_ov 0 ([]) ((Of unary.Vi (Number (pos 4))) ∷ []) ([])) s.NoBlock (s.Then 23 (s.Release 3 4 ([])) s.NoBlock (s.Then 24 (s.Return ((Of2 binary.Cons (Of unary.Vi (Number (pos 1))) (Of2 binary.Cons (Of unary.Vi (Number (pos 2))) (Of2 binary.Cons (Of unary.Vi (Number (pos 0))) (Of2 binary.Cons (Of unary.Vi (Number (pos 0))) Nil)))) ∷ (Of2 binary.Cons (Of unary.Vi (Number (pos 3))) Nil) ∷ []) ([]) ([])) s.NoBlock s.End)))) s.NoBlock) s.End)))))))))))))) ≡ (RefusedAt 13 2 3)
unfolding computing
random_465 = refl

random_466 : body_verdict (record { predicates = ([]); specs = ((record { is_void = false; name = name_main; params = ([]); vars = []; pre = (record { opened = []; facts = ([]); locals = []; items = ((Data (Number (pos 64)) (Global name_g) (Of2 binary.Cons (Of unary.Vi (Number (pos 3))) Nil)) ∷ (Data (Number (pos 64)) (Global name_arr) (Of2 binary.Cons (Of unary.Vi (Number (pos 1))) (Of2 binary.Cons (Of unary.Vi (Number (pos 2))) (Of2 binary.Cons (Of unary.Vi (Number (pos 0))) (Of2 binary.Cons (Of unary.Vi (Number (pos 0))) Nil))))) ∷ (Data (Number (pos 64)) (Global name_x) (Of2 binary.Cons (Of unary.Vi (Number (pos 3))) Nil)) ∷ []) }); post = (record { opened = (sort.List ∷ sort.List ∷ []); facts = ([]); locals = []; items = ((Data (Number (pos 64)) (Global name_g) (Var 1 sort.List)) ∷ (Data (Number (pos 64)) (Global name_arr) (Var 2 sort.List)) ∷ (Data (Number (pos 16)) (Global name_x) (Var 1 sort.List)) ∷ (Data (Number (pos 48)) (Global name_x) (Var 1 sort.List)) ∷ []) }) }) ∷ []) }) (record { is_void = false; name = name_main; params = ([]); vars = []; pre = (record { opened = []; facts = ([]); locals = []; items = ((Data (Number (pos 64)) (Global name_g) (Of2 binary.Cons (Of unary.Vi (Number (pos 3))) Nil)) ∷ (Data (Number (pos 64)) (Global name_arr) (Of2 binary.Cons (Of unary.Vi (Number (pos 1))) (Of2 binary.Cons (Of unary.Vi (Number (pos 2))) (Of2 binary.Cons (Of unary.Vi (Number (pos 0))) (Of2 binary.Cons (Of unary.Vi (Number (pos 0))) Nil))))) ∷ (Data (Number (pos 64)) (Global name_x) (Of2 binary.Cons (Of unary.Vi (Number (pos 3))) Nil)) ∷ []) }); post = (record { opened = (sort.List ∷ sort.List ∷ []); facts = ([]); locals = []; items = ((Data (Number (pos 64)) (Global name_g) (Var 1 sort.List)) ∷ (Data (Number (pos 64)) (Global name_arr) (Var 2 sort.List)) ∷ (Data (Number (pos 16)) (Global name_x) (Var 1 sort.List)) ∷ (Data (Number (pos 48)) (Global name_x) (Var 1 sort.List)) ∷ []) }) }) (record { temps = (name_s ∷ name_t ∷ name_i ∷ name_x1 ∷ name_d0 ∷ name_p1 ∷ name_q1 ∷ []); body = (c.Then (c.Set 0 (c.Const 3)) (c.Then (c.Set 1 (c.Const 0)) (c.Then (c.Set 3 (c.Binary two.Shl kind.Unsigned (c.Const 1) (c.Const 4))) (c.Then (c.Set 2 (c.Const 0)) (c.Then (c.Loop (c.Then (c.If (c.Nonzero kind.Signed (c.Binary two.Lt kind.Signed (c.Temp 2) (c.Const 4))) (c.Then (c.Store (root.Global name_arr 4) (c.Index kind.Signed (c.Temp 2) c.Here) (c.Const 7)) (c.Then (c.Set 2 (c.Binary two.Add kind.Signed (c.Temp 2) (c.Const 1))) c.End)) (c.Then c.Break c.End)) c.End)) (c.Then (c.Set 3 (c.Unary one.Invert kind.Unsigned (c.Const 0))) (c.Then (c.Load 1 (root.Global name_arr 4) (c.Index kind.Signed (c.Const 3) c.Here)) (c.Then (c.Load 0 (root.Global name_arr 4) (c.Index kind.Signed (c.Const 1) c.Here)) (c.Then (c.Set 4 (c.Binary two.Add kind.Signed (c.Const 1) (c.Const 3))) (c.Then (c.Return (Some (c.Const 0))) c.End)))))))))) }) (s.Then 1 (s.Share 2 (Number (pos 16)) ([])) s.NoBlock (s.Then 2 (s.Set ([]) ([])) s.NoBlock (s.Then 3 (s.Set ([]) ([])) s.NoBlock (s.Then 4 (s.Apart 0 2 ([])) s.NoBlock (s.Then 5 (s.Set ([]) ([])) s.NoBlock (s.Then 6 (s.Set ([]) ([])) s.NoBlock (s.Then 7 (s.Forget (forgotten.Prop 0)) s.NoBlock (s.Then 8 (s.While (record { opened = (sort.Int ∷ sort.List ∷ []); facts = ((Rel relation.Le (Number (pos 0)) (Var 0 sort.Int)) ∷ (Rel relation.Le (Var 0 sort.Int) (Number (pos 4))) ∷ (Rel relation.Eq (Of unary.Len (Var 1 sort.List)) (Number (pos 4))) ∷ []); locals = ((name_s, (Of unary.Vi (Number (pos 3)))) ∷ (name_t, (Of unary.Vi (Number (pos 0)))) ∷ (name_i, (Of unary.Vi (Var 0 sort.Int))) ∷ (name_x1, (Of unary.Vi (Number (pos 16)))) ∷ []); items = ((Data (Number (pos 64)) (Global name_g) (Of2 binary.Cons (Of unary.Vi (Number (pos 3))) Nil)) ∷ (Data (Number (pos 64)) (Global name_arr) (Var 1 sort.List)) ∷ (Data (Number (pos 16)) (Global name_x) (Of2 binary.Cons (Of unary.Vi (Number (pos 3))) Nil)) ∷ (Data (Number (pos 48)) (Global name_x) (Of2 binary.Cons (Of unary.Vi (Number (pos 3))) Nil)) ∷ []) }) (record { opened = (sort.Int ∷ sort.List ∷ []); facts = ((Rel relation.Le (Number (pos 0)) (Var 0 sort.Int)) ∷ (Rel relation.Le (Var 0 sort.Int) (Number (pos 4))) ∷ (Rel relation.Eq (Of unary.Len (Var 1 sort.List)) (Number (pos 4))) ∷ (Rel relation.Le (Number (pos 4)) (Var 0 sort.Int)) ∷ []); locals = ((name_s, (Of unary.Vi (Number (pos 3)))) ∷ (name_t, (Of unary.Vi (Number (pos 0)))) ∷ (name_i, (Of unary.Vi (Var 0 sort.Int))) ∷ (name_x1, (Of unary.Vi (Number (pos 16)))) ∷ []); items = ((Data (Number (pos 64)) (Global name_g) (Of2 binary.Cons (Of unary.Vi (Number (pos 3))) Nil)) ∷ (Data (Number (pos 64)) (Global name_arr) (Var 1 sort.List)) ∷ (Data (Number (pos 16)) (Global name_x) (Of2 binary.Cons (Of unary.Vi (Number (pos 3))) Nil)) ∷ (Data (Number (pos 48)) (Global name_x) (Of2 binary.Cons (Of unary.Vi (Number (pos 3))) Nil)) ∷ []) }) (name_k3 ∷ name_k4 ∷ []) ([]) (name_k1 ∷ name_k2 ∷ [])) (s.WithBlock (s.Then 9 (s.Meet ((Number (pos 0)) ∷ (Of2 binary.Cons (Of unary.Vi (Number (pos 1))) (Of2 binary.Cons (Of unary.Vi (Number (pos 2))) (Of2 binary.Cons (Of unary.Vi (Number (pos 0))) (Of2 binary.Cons (Of unary.Vi (Number (pos 0))) Nil)))) ∷ []) ([])) s.NoBlock s.End) (s.WithBlock (s.Then 10 (s.Have (IsInt (Of unary.Vi (Number (pos 3)))) ([])) s.NoBlock (s.Then 11 (s.If ([]) ((record { lines = ((line.Comb (((pos 1), 0) ∷ ((pos 1), 4) ∷ [])) ∷ []) }) ∷ (record { lines = ((line.Comb (((pos 1), 1) ∷ ((pos 1), 4) ∷ [])) ∷ []) }) ∷ []) ([]) ([])) (s.WithBlock (s.Then 12 (s.Share 3 (Number (pos 16)) ([])) s.NoBlock (s.Then 13 (s.Unshare 3 4 ([])) s.NoBlock (s.Then 14 (s.Store 1 ([]) ((record { lines = ((line.Comb (((pos 1), 0) ∷ ((pos 1), 5) ∷ [])) ∷ []) }) ∷ (record { lines = ((line.Comb (((pos 1), 1) ∷ ((pos 1), 5) ∷ [])) ∷ []) }) ∷ (record { lines = ((line.Comb (((pos 1), 3) ∷ ((pos 1), 4) ∷ ((pos 1), 5) ∷ [])) ∷ []) }) ∷ [])) s.NoBlock (s.Then 15 (s.Law name_len_upd ((Named name_k2) ∷ (Named name_k1) ∷ (Of unary.Vi (Number (pos 7))) ∷ []) ([])) s.NoBlock (s.Then 16 (s.Set ([]) ((record { lines = ((line.Comb (((pos 1), 0) ∷ ((pos 1), 7) ∷ [])) ∷ []) }) ∷ (record { lines = ((line.Comb (((pos 1), 1) ∷ ((pos 1), 7) ∷ [])) ∷ []) }) ∷ (record { lines = ((line.Comb (((pos 1), 0) ∷ ((pos 1), 7) ∷ [])) ∷ []) }) ∷ (record { lines = ((line.Comb (((pos 1), 1) ∷ ((pos 1), 7) ∷ [])) ∷ []) }) ∷ [])) s.NoBlock (s.Then 17 (s.Rewrite false 2 (occurrence.Item 2)) s.NoBlock (s.Then 18 (s.Share 3 (Number (pos 1)) ([])) s.NoBlock (s.Then 19 (s.Unshare 4 3 ([])) s.NoBlock (s.Then 20 (s.Fall ((Of2 binary.Add (Named name_k1) (Number (pos 1))) ∷ (Of3 ternary.Upd (Named name_k2) (Named name_k1) (Of unary.Vi (Number (pos 7)))) ∷ []) ((record { lines = ((line.Comb (((pos 1), 0) ∷ ((pos 1), 7) ∷ [])) ∷ []) }) ∷ (record { lines = ((line.Comb (((pos 1), 5) ∷ ((pos 1), 2) ∷ ((pos 1), 7) ∷ [])) ∷ []) }) ∷ (record { lines = ((line.Comb (((pos 1), 6) ∷ ((pos 1), 3) ∷ ((pos 1), 7) ∷ [])) ∷ []) }) ∷ [])) s.NoBlock s.End))))))))) (s.WithBlock (s.Then 21 (s.Break ((Named name_k1) ∷ (Named name_k2) ∷ []) ([])) s.NoBlock s.End) s.NoBlock)) s.End)) s.NoBlock)) (s.Then 22 (s.Set ([]) ([])) s.NoBlock (s.Then 23 (s.Load 1 ([]) ((record { lines = ((line.Comb (((pos 1), 3) ∷ ((pos 1), 5) ∷ [])) ∷ []) }) ∷ [])) s.NoBlock (s.Then 24 (s.Load 1 ([]) ((record { lines = ((line.Comb (((pos 1), 3) ∷ ((pos 1), 5) ∷ [])) ∷ []) }) ∷ [])) s.NoBlock (s.Then 25 (s.Set ([]) ([])) s.NoBlock (s.Then 26 (s.Return ((Of2 binary.Cons (Of unary.Vi (Number (pos 3))) Nil) ∷ (Named name_k4) ∷ []) ([]) ([])) s.NoBlock s.End))))))))))))) ≡ Accepted
unfolding computing
random_466 = refl

random_467 : body_verdict (record { predicates = ([]); specs = ((record { is_void = false; name = name_main; params = ([]); vars = []; pre = (record { opened = []; facts = ([]); locals = []; items = ((Data (Number (pos 64)) (Global name_g) (Of2 binary.Cons (Of unary.Vi (Number (pos 3))) Nil)) ∷ (Data (Number (pos 64)) (Global name_arr) (Of2 binary.Cons (Of unary.Vi (Number (pos 1))) (Of2 binary.Cons (Of unary.Vi (Number (pos 2))) (Of2 binary.Cons (Of unary.Vi (Number (pos 0))) (Of2 binary.Cons (Of unary.Vi (Number (pos 0))) Nil))))) ∷ (Data (Number (pos 64)) (Global name_x) (Of2 binary.Cons (Of unary.Vi (Number (pos 3))) Nil)) ∷ []) }); post = (record { opened = (sort.List ∷ sort.List ∷ []); facts = ([]); locals = []; items = ((Data (Number (pos 64)) (Global name_g) (Var 1 sort.List)) ∷ (Data (Number (pos 64)) (Global name_arr) (Var 2 sort.List)) ∷ (Data (Number (pos 16)) (Global name_x) (Var 1 sort.List)) ∷ (Data (Number (pos 48)) (Global name_x) (Var 1 sort.List)) ∷ []) }) }) ∷ []) }) (record { is_void = false; name = name_main; params = ([]); vars = []; pre = (record { opened = []; facts = ([]); locals = []; items = ((Data (Number (pos 64)) (Global name_g) (Of2 binary.Cons (Of unary.Vi (Number (pos 3))) Nil)) ∷ (Data (Number (pos 64)) (Global name_arr) (Of2 binary.Cons (Of unary.Vi (Number (pos 1))) (Of2 binary.Cons (Of unary.Vi (Number (pos 2))) (Of2 binary.Cons (Of unary.Vi (Number (pos 0))) (Of2 binary.Cons (Of unary.Vi (Number (pos 0))) Nil))))) ∷ (Data (Number (pos 64)) (Global name_x) (Of2 binary.Cons (Of unary.Vi (Number (pos 3))) Nil)) ∷ []) }); post = (record { opened = (sort.List ∷ sort.List ∷ []); facts = ([]); locals = []; items = ((Data (Number (pos 64)) (Global name_g) (Var 1 sort.List)) ∷ (Data (Number (pos 64)) (Global name_arr) (Var 2 sort.List)) ∷ (Data (Number (pos 16)) (Global name_x) (Var 1 sort.List)) ∷ (Data (Number (pos 48)) (Global name_x) (Var 1 sort.List)) ∷ []) }) }) (record { temps = (name_s ∷ name_t ∷ name_i ∷ name_x1 ∷ name_d0 ∷ name_p1 ∷ name_q1 ∷ []); body = (c.Then (c.Set 0 (c.Const 3)) (c.Then (c.Set 1 (c.Const 0)) (c.Then (c.Set 3 (c.Binary two.Shl kind.Unsigned (c.Const 1) (c.Const 4))) (c.Then (c.Set 2 (c.Const 0)) (c.Then (c.Load 0 (root.Global name_arr 4) (c.Index kind.Signed (c.Const 1) c.Here)) (c.Then (c.Loop (c.Then (c.If (c.Nonzero kind.Signed (c.Binary two.Lt kind.Signed (c.Temp 2) (c.Const 4))) (c.Then (c.Store (root.Global name_arr 4) (c.Index kind.Signed (c.Temp 2) c.Here) (c.Const 7)) (c.Then (c.Set 2 (c.Binary two.Add kind.Signed (c.Temp 2) (c.Const 1))) c.End)) (c.Then c.Break c.End)) c.End)) (c.Then (c.Set 3 (c.Unary one.Invert kind.Unsigned (c.Const 0))) (c.Then (c.Load 1 (root.Global name_arr 4) (c.Index kind.Signed (c.Const 3) c.Here)) (c.Then (c.Set 4 (c.Binary two.Add kind.Signed (c.Const 1) (c.Const 3))) (c.Then (c.Return (Some (c.Const 0))) c.End)))))))))) }) (s.Then 1 (s.Share 2 (Number (pos 16)) ([])) s.NoBlock (s.Then 2 (s.Set ([]) ([])) s.NoBlock (s.Then 3 (s.Set ([]) ([])) s.NoBlock (s.Then 4 (s.Apart 0 2 ([])) s.NoBlock (s.Then 5 (s.Set ([]) ([])) s.NoBlock (s.Then 6 (s.Set ([]) ([])) s.NoBlock (s.Then 7 (s.Forget (forgotten.Prop 0)) s.NoBlock (s.Then 8 (s.While (record { opened = (sort.Int ∷ sort.List ∷ []); facts = ((Rel relation.Le (Number (pos 0)) (Var 0 sort.Int)) ∷ (Rel relation.Le (Var 0 sort.Int) (Number (pos 4))) ∷ (Rel relation.Eq (Of unary.Len (Var 1 sort.List)) (Number (pos 4))) ∷ []); locals = ((name_s, (Of unary.Vi (Number (pos 3)))) ∷ (name_t, (Of unary.Vi (Number (pos 0)))) ∷ (name_i, (Of unary.Vi (Var 0 sort.Int))) ∷ (name_x1, (Of unary.Vi (Number (pos 16)))) ∷ []); items = ((Data (Number (pos 64)) (Global name_g) (Of2 binary.Cons (Of unary.Vi (Number (pos 3))) Nil)) ∷ (Data (Number (pos 64)) (Global name_arr) (Var 1 sort.List)) ∷ (Data (Number (pos 16)) (Global name_x) (Of2 binary.Cons (Of unary.Vi (Number (pos 3))) Nil)) ∷ (Data (Number (pos 48)) (Global name_x) (Of2 binary.Cons (Of unary.Vi (Number (pos 3))) Nil)) ∷ []) }) (record { opened = (sort.Int ∷ sort.List ∷ []); facts = ((Rel relation.Le (Number (pos 0)) (Var 0 sort.Int)) ∷ (Rel relation.Le (Var 0 sort.Int) (Number (pos 4))) ∷ (Rel relation.Eq (Of unary.Len (Var 1 sort.List)) (Number (pos 4))) ∷ (Rel relation.Le (Number (pos 4)) (Var 0 sort.Int)) ∷ []); locals = ((name_s, (Of unary.Vi (Number (pos 3)))) ∷ (name_t, (Of unary.Vi (Number (pos 0)))) ∷ (name_i, (Of unary.Vi (Var 0 sort.Int))) ∷ (name_x1, (Of unary.Vi (Number (pos 16)))) ∷ []); items = ((Data (Number (pos 64)) (Global name_g) (Of2 binary.Cons (Of unary.Vi (Number (pos 3))) Nil)) ∷ (Data (Number (pos 64)) (Global name_arr) (Var 1 sort.List)) ∷ (Data (Number (pos 16)) (Global name_x) (Of2 binary.Cons (Of unary.Vi (Number (pos 3))) Nil)) ∷ (Data (Number (pos 48)) (Global name_x) (Of2 binary.Cons (Of unary.Vi (Number (pos 3))) Nil)) ∷ []) }) (name_k3 ∷ name_k4 ∷ []) ([]) (name_k1 ∷ name_k2 ∷ [])) (s.WithBlock (s.Then 9 (s.Meet ((Number (pos 0)) ∷ (Of2 binary.Cons (Of unary.Vi (Number (pos 1))) (Of2 binary.Cons (Of unary.Vi (Number (pos 2))) (Of2 binary.Cons (Of unary.Vi (Number (pos 0))) (Of2 binary.Cons (Of unary.Vi (Number (pos 0))) Nil)))) ∷ []) ([])) s.NoBlock s.End) (s.WithBlock (s.Then 10 (s.Have (IsInt (Of unary.Vi (Number (pos 3)))) ([])) s.NoBlock (s.Then 11 (s.If ([]) ((record { lines = ((line.Comb (((pos 1), 0) ∷ ((pos 1), 4) ∷ [])) ∷ []) }) ∷ (record { lines = ((line.Comb (((pos 1), 1) ∷ ((pos 1), 4) ∷ [])) ∷ []) }) ∷ []) ([]) ([])) (s.WithBlock (s.Then 12 (s.Share 3 (Number (pos 16)) ([])) s.NoBlock (s.Then 13 (s.Unshare 3 4 ([])) s.NoBlock (s.Then 14 (s.Store 1 ([]) ((record { lines = ((line.Comb (((pos 1), 0) ∷ ((pos 1), 5) ∷ [])) ∷ []) }) ∷ (record { lines = ((line.Comb (((pos 1), 1) ∷ ((pos 1), 5) ∷ [])) ∷ []) }) ∷ (record { lines = ((line.Comb (((pos 1), 3) ∷ ((pos 1), 4) ∷ ((pos 1), 5) ∷ [])) ∷ []) }) ∷ [])) s.NoBlock (s.Then 15 (s.Law name_len_upd ((Named name_k2) ∷ (Named name_k1) ∷ (Of unary.Vi (Number (pos 7))) ∷ []) ([])) s.NoBlock (s.Then 16 (s.Set ([]) ((record { lines = ((line.Comb (((pos 1), 0) ∷ ((pos 1), 7) ∷ [])) ∷ []) }) ∷ (record { lines = ((line.Comb (((pos 1), 1) ∷ ((pos 1), 7) ∷ [])) ∷ []) }) ∷ (record { lines = ((line.Comb (((pos 1), 0) ∷ ((pos 1), 7) ∷ [])) ∷ []) }) ∷ (record { lines = ((line.Comb (((pos 1), 1) ∷ ((pos 1), 7) ∷ [])) ∷ []) }) ∷ [])) s.NoBlock (s.Then 17 (s.Rewrite false 2 (occurrence.Item 2)) s.NoBlock (s.Then 18 (s.Share 3 (Number (pos 1)) ([])) s.NoBlock (s.Then 19 (s.Unshare 4 3 ([])) s.NoBlock (s.Then 20 (s.Fall ((Of2 binary.Add (Named name_k1) (Number (pos 1))) ∷ (Of3 ternary.Upd (Named name_k2) (Named name_k1) (Of unary.Vi (Number (pos 7)))) ∷ []) ((record { lines = ((line.Comb (((pos 1), 0) ∷ ((pos 1), 7) ∷ [])) ∷ []) }) ∷ (record { lines = ((line.Comb (((pos 1), 5) ∷ ((pos 1), 2) ∷ ((pos 1), 7) ∷ [])) ∷ []) }) ∷ (record { lines = ((line.Comb (((pos 1), 6) ∷ ((pos 1), 3) ∷ ((pos 1), 7) ∷ [])) ∷ []) }) ∷ [])) s.NoBlock s.End))))))))) (s.WithBlock (s.Then 21 (s.Break ((Named name_k1) ∷ (Named name_k2) ∷ []) ([])) s.NoBlock s.End) s.NoBlock)) s.End)) s.NoBlock)) (s.Then 22 (s.Set ([]) ([])) s.NoBlock (s.Then 23 (s.Load 1 ([]) ((record { lines = ((line.Comb (((pos 1), 3) ∷ ((pos 1), 5) ∷ [])) ∷ []) }) ∷ [])) s.NoBlock (s.Then 24 (s.Load 1 ([]) ((record { lines = ((line.Comb (((pos 1), 3) ∷ ((pos 1), 5) ∷ [])) ∷ []) }) ∷ [])) s.NoBlock (s.Then 25 (s.Set ([]) ([])) s.NoBlock (s.Then 26 (s.Return ((Of2 binary.Cons (Of unary.Vi (Number (pos 3))) Nil) ∷ (Named name_k4) ∷ []) ([]) ([])) s.NoBlock s.End))))))))))))) ≡ (RefusedAt 8 6 1)
unfolding computing
random_467 = refl

random_468 : body_verdict (record { predicates = ([]); specs = ((record { is_void = false; name = name_main; params = ([]); vars = []; pre = (record { opened = []; facts = ([]); locals = []; items = ((Data (Number (pos 64)) (Global name_g) (Of2 binary.Cons (Of unary.Vi (Number (pos 3))) Nil)) ∷ (Data (Number (pos 64)) (Global name_arr) (Of2 binary.Cons (Of unary.Vi (Number (pos 1))) (Of2 binary.Cons (Of unary.Vi (Number (pos 2))) (Of2 binary.Cons (Of unary.Vi (Number (pos 0))) (Of2 binary.Cons (Of unary.Vi (Number (pos 0))) Nil))))) ∷ (Data (Number (pos 64)) (Global name_x) (Of2 binary.Cons (Of unary.Vi (Number (pos 3))) Nil)) ∷ []) }); post = (record { opened = (sort.List ∷ sort.List ∷ []); facts = ([]); locals = []; items = ((Data (Number (pos 64)) (Global name_g) (Var 1 sort.List)) ∷ (Data (Number (pos 64)) (Global name_arr) (Var 2 sort.List)) ∷ (Data (Number (pos 16)) (Global name_x) (Var 1 sort.List)) ∷ (Data (Number (pos 48)) (Global name_x) (Var 1 sort.List)) ∷ []) }) }) ∷ []) }) (record { is_void = false; name = name_main; params = ([]); vars = []; pre = (record { opened = []; facts = ([]); locals = []; items = ((Data (Number (pos 64)) (Global name_g) (Of2 binary.Cons (Of unary.Vi (Number (pos 3))) Nil)) ∷ (Data (Number (pos 64)) (Global name_arr) (Of2 binary.Cons (Of unary.Vi (Number (pos 1))) (Of2 binary.Cons (Of unary.Vi (Number (pos 2))) (Of2 binary.Cons (Of unary.Vi (Number (pos 0))) (Of2 binary.Cons (Of unary.Vi (Number (pos 0))) Nil))))) ∷ (Data (Number (pos 64)) (Global name_x) (Of2 binary.Cons (Of unary.Vi (Number (pos 3))) Nil)) ∷ []) }); post = (record { opened = (sort.List ∷ sort.List ∷ []); facts = ([]); locals = []; items = ((Data (Number (pos 64)) (Global name_g) (Var 1 sort.List)) ∷ (Data (Number (pos 64)) (Global name_arr) (Var 2 sort.List)) ∷ (Data (Number (pos 16)) (Global name_x) (Var 1 sort.List)) ∷ (Data (Number (pos 48)) (Global name_x) (Var 1 sort.List)) ∷ []) }) }) (record { temps = (name_s ∷ name_t ∷ name_i ∷ name_x1 ∷ name_d0 ∷ name_p1 ∷ name_q1 ∷ []); body = (c.Then (c.Set 0 (c.Const 3)) (c.Then (c.Set 1 (c.Const 0)) (c.Then (c.Set 3 (c.Binary two.Shl kind.Unsigned (c.Const 1) (c.Const 4))) (c.Then (c.Set 2 (c.Const 0)) (c.Then (c.Loop (c.Then (c.If (c.Nonzero kind.Signed (c.Binary two.Lt kind.Signed (c.Temp 2) (c.Const 4))) (c.Then (c.Store (root.Global name_arr 4) (c.Index kind.Signed (c.Temp 2) c.Here) (c.Const 7)) (c.Then (c.Set 2 (c.Binary two.Add kind.Signed (c.Temp 2) (c.Const 1))) c.End)) (c.Then c.Break c.End)) c.End)) (c.Then (c.Set 3 (c.Unary one.Invert kind.Unsigned (c.Const 0))) (c.Then (c.Load 1 (root.Global name_arr 4) (c.Index kind.Signed (c.Const 3) c.Here)) (c.Then (c.Load 0 (root.Global name_arr 4) (c.Index kind.Signed (c.Const 1) c.Here)) (c.Then (c.Set 4 (c.Binary two.Add kind.Signed (c.Const 1) (c.Const 3))) (c.Then (c.Return (Some (c.Const 0))) c.End)))))))))) }) (s.Then 1 (s.Share 2 (Number (pos 16)) ([])) s.NoBlock (s.Then 2 (s.Set ([]) ([])) s.NoBlock (s.Then 3 (s.Set ([]) ([])) s.NoBlock (s.Then 4 (s.Apart 0 2 ([])) s.NoBlock (s.Then 5 (s.Set ([]) ([])) s.NoBlock (s.Then 6 (s.Set ([]) ([])) s.NoBlock (s.Then 7 (s.Forget (forgotten.Prop 0)) s.NoBlock (s.Then 8 (s.While (record { opened = (sort.Int ∷ sort.List ∷ []); facts = ((Rel relation.Le (Number (pos 0)) (Var 0 sort.Int)) ∷ (Rel relation.Le (Var 0 sort.Int) (Number (pos 4))) ∷ (Rel relation.Eq (Of unary.Len (Var 1 sort.List)) (Number (pos 4))) ∷ []); locals = ((name_s, (Of unary.Vi (Number (pos 3)))) ∷ (name_t, (Of unary.Vi (Number (pos 0)))) ∷ (name_i, (Of unary.Vi (Var 0 sort.Int))) ∷ (name_x1, (Of unary.Vi (Number (pos 16)))) ∷ []); items = ((Data (Number (pos 64)) (Global name_g) (Of2 binary.Cons (Of unary.Vi (Number (pos 3))) Nil)) ∷ (Data (Number (pos 64)) (Global name_arr) (Var 1 sort.List)) ∷ (Data (Number (pos 16)) (Global name_x) (Of2 binary.Cons (Of unary.Vi (Number (pos 3))) Nil)) ∷ (Data (Number (pos 48)) (Global name_x) (Of2 binary.Cons (Of unary.Vi (Number (pos 3))) Nil)) ∷ []) }) (record { opened = (sort.Int ∷ sort.List ∷ []); facts = ((Rel relation.Le (Number (pos 0)) (Var 0 sort.Int)) ∷ (Rel relation.Le (Var 0 sort.Int) (Number (pos 4))) ∷ (Rel relation.Eq (Of unary.Len (Var 1 sort.List)) (Number (pos 4))) ∷ (Rel relation.Le (Number (pos 4)) (Var 0 sort.Int)) ∷ []); locals = ((name_s, (Of unary.Vi (Number (pos 3)))) ∷ (name_t, (Of unary.Vi (Number (pos 0)))) ∷ (name_i, (Of unary.Vi (Var 0 sort.Int))) ∷ (name_x1, (Of unary.Vi (Number (pos 16)))) ∷ []); items = ((Data (Number (pos 64)) (Global name_g) (Of2 binary.Cons (Of unary.Vi (Number (pos 3))) Nil)) ∷ (Data (Number (pos 64)) (Global name_arr) (Var 1 sort.List)) ∷ (Data (Number (pos 16)) (Global name_x) (Of2 binary.Cons (Of unary.Vi (Number (pos 3))) Nil)) ∷ (Data (Number (pos 48)) (Global name_x) (Of2 binary.Cons (Of unary.Vi (Number (pos 3))) Nil)) ∷ []) }) (name_k3 ∷ name_k4 ∷ []) ([]) (name_k1 ∷ name_k2 ∷ [])) (s.WithBlock (s.Then 9 (s.Meet ((Number (pos 0)) ∷ (Of2 binary.Cons (Of unary.Vi (Number (pos 1))) (Of2 binary.Cons (Of unary.Vi (Number (pos 2))) (Of2 binary.Cons (Of unary.Vi (Number (pos 0))) (Of2 binary.Cons (Of unary.Vi (Number (pos 2))) Nil)))) ∷ []) ([])) s.NoBlock s.End) (s.WithBlock (s.Then 10 (s.Have (IsInt (Of unary.Vi (Number (pos 3)))) ([])) s.NoBlock (s.Then 11 (s.If ([]) ((record { lines = ((line.Comb (((pos 1), 0) ∷ ((pos 1), 4) ∷ [])) ∷ []) }) ∷ (record { lines = ((line.Comb (((pos 1), 1) ∷ ((pos 1), 4) ∷ [])) ∷ []) }) ∷ []) ([]) ([])) (s.WithBlock (s.Then 12 (s.Share 3 (Number (pos 16)) ([])) s.NoBlock (s.Then 13 (s.Unshare 3 4 ([])) s.NoBlock (s.Then 14 (s.Store 1 ([]) ((record { lines = ((line.Comb (((pos 1), 0) ∷ ((pos 1), 5) ∷ [])) ∷ []) }) ∷ (record { lines = ((line.Comb (((pos 1), 1) ∷ ((pos 1), 5) ∷ [])) ∷ []) }) ∷ (record { lines = ((line.Comb (((pos 1), 3) ∷ ((pos 1), 4) ∷ ((pos 1), 5) ∷ [])) ∷ []) }) ∷ [])) s.NoBlock (s.Then 15 (s.Law name_len_upd ((Named name_k2) ∷ (Named name_k1) ∷ (Of unary.Vi (Number (pos 7))) ∷ []) ([])) s.NoBlock (s.Then 16 (s.Set ([]) ((record { lines = ((line.Comb (((pos 1), 0) ∷ ((pos 1), 7) ∷ [])) ∷ []) }) ∷ (record { lines = ((line.Comb (((pos 1), 1) ∷ ((pos 1), 7) ∷ [])) ∷ []) }) ∷ (record { lines = ((line.Comb (((pos 1), 0) ∷ ((pos 1), 7) ∷ [])) ∷ []) }) ∷ (record { lines = ((line.Comb (((pos 1), 1) ∷ ((pos 1), 7) ∷ [])) ∷ []) }) ∷ [])) s.NoBlock (s.Then 17 (s.Rewrite false 2 (occurrence.Item 2)) s.NoBlock (s.Then 18 (s.Share 3 (Number (pos 1)) ([])) s.NoBlock (s.Then 19 (s.Unshare 4 3 ([])) s.NoBlock (s.Then 20 (s.Fall ((Of2 binary.Add (Named name_k1) (Number (pos 1))) ∷ (Of3 ternary.Upd (Named name_k2) (Named name_k1) (Of unary.Vi (Number (pos 7)))) ∷ []) ((record { lines = ((line.Comb (((pos 1), 0) ∷ ((pos 1), 7) ∷ [])) ∷ []) }) ∷ (record { lines = ((line.Comb (((pos 1), 5) ∷ ((pos 1), 2) ∷ ((pos 1), 7) ∷ [])) ∷ []) }) ∷ (record { lines = ((line.Comb (((pos 1), 6) ∷ ((pos 1), 3) ∷ ((pos 1), 7) ∷ [])) ∷ []) }) ∷ [])) s.NoBlock s.End))))))))) (s.WithBlock (s.Then 21 (s.Break ((Named name_k1) ∷ (Named name_k2) ∷ []) ([])) s.NoBlock s.End) s.NoBlock)) s.End)) s.NoBlock)) (s.Then 22 (s.Set ([]) ([])) s.NoBlock (s.Then 23 (s.Load 1 ([]) ((record { lines = ((line.Comb (((pos 1), 3) ∷ ((pos 1), 5) ∷ [])) ∷ []) }) ∷ [])) s.NoBlock (s.Then 24 (s.Load 1 ([]) ((record { lines = ((line.Comb (((pos 1), 3) ∷ ((pos 1), 5) ∷ [])) ∷ []) }) ∷ [])) s.NoBlock (s.Then 25 (s.Set ([]) ([])) s.NoBlock (s.Then 26 (s.Return ((Of2 binary.Cons (Of unary.Vi (Number (pos 3))) Nil) ∷ (Named name_k4) ∷ []) ([]) ([])) s.NoBlock s.End))))))))))))) ≡ (RefusedAt 9 37 5)
unfolding computing
random_468 = refl

random_469 : body_verdict (record { predicates = ([]); specs = ((record { is_void = false; name = name_main; params = ([]); vars = []; pre = (record { opened = []; facts = ([]); locals = []; items = ((Data (Number (pos 64)) (Global name_g) (Of2 binary.Cons (Of unary.Vi (Number (pos 3))) Nil)) ∷ (Data (Number (pos 64)) (Global name_arr) (Of2 binary.Cons (Of unary.Vi (Number (pos 1))) (Of2 binary.Cons (Of unary.Vi (Number (pos 2))) (Of2 binary.Cons (Of unary.Vi (Number (pos 0))) (Of2 binary.Cons (Of unary.Vi (Number (pos 0))) Nil))))) ∷ (Data (Number (pos 64)) (Global name_x) (Of2 binary.Cons (Of unary.Vi (Number (pos 3))) Nil)) ∷ []) }); post = (record { opened = (sort.List ∷ sort.List ∷ []); facts = ([]); locals = []; items = ((Data (Number (pos 64)) (Global name_g) (Var 1 sort.List)) ∷ (Data (Number (pos 64)) (Global name_arr) (Var 2 sort.List)) ∷ (Data (Number (pos 16)) (Global name_x) (Var 1 sort.List)) ∷ (Data (Number (pos 48)) (Global name_x) (Var 1 sort.List)) ∷ []) }) }) ∷ []) }) (record { is_void = false; name = name_main; params = ([]); vars = []; pre = (record { opened = []; facts = ([]); locals = []; items = ((Data (Number (pos 64)) (Global name_g) (Of2 binary.Cons (Of unary.Vi (Number (pos 3))) Nil)) ∷ (Data (Number (pos 64)) (Global name_arr) (Of2 binary.Cons (Of unary.Vi (Number (pos 1))) (Of2 binary.Cons (Of unary.Vi (Number (pos 2))) (Of2 binary.Cons (Of unary.Vi (Number (pos 0))) (Of2 binary.Cons (Of unary.Vi (Number (pos 0))) Nil))))) ∷ (Data (Number (pos 64)) (Global name_x) (Of2 binary.Cons (Of unary.Vi (Number (pos 3))) Nil)) ∷ []) }); post = (record { opened = (sort.List ∷ sort.List ∷ []); facts = ([]); locals = []; items = ((Data (Number (pos 64)) (Global name_g) (Var 1 sort.List)) ∷ (Data (Number (pos 64)) (Global name_arr) (Var 2 sort.List)) ∷ (Data (Number (pos 16)) (Global name_x) (Var 1 sort.List)) ∷ (Data (Number (pos 48)) (Global name_x) (Var 1 sort.List)) ∷ []) }) }) (record { temps = (name_s ∷ name_t ∷ name_i ∷ name_x1 ∷ name_d0 ∷ name_p1 ∷ name_q1 ∷ []); body = (c.Then (c.Set 0 (c.Const 3)) (c.Then (c.Set 1 (c.Const 0)) (c.Then (c.Set 3 (c.Binary two.Shl kind.Unsigned (c.Const 1) (c.Const 4))) (c.Then (c.Set 2 (c.Const 0)) (c.Then (c.Loop (c.Then (c.If (c.Nonzero kind.Signed (c.Binary two.Lt kind.Signed (c.Temp 2) (c.Const 4))) (c.Then (c.Store (root.Global name_arr 4) (c.Index kind.Signed (c.Temp 2) c.Here) (c.Const 7)) (c.Then (c.Set 2 (c.Binary two.Add kind.Signed (c.Temp 2) (c.Const 1))) c.End)) (c.Then c.Break c.End)) c.End)) (c.Then (c.Set 3 (c.Unary one.Invert kind.Unsigned (c.Const 0))) (c.Then (c.Load 1 (root.Global name_arr 4) (c.Index kind.Signed (c.Const 3) c.Here)) (c.Then (c.Load 0 (root.Global name_arr 4) (c.Index kind.Signed (c.Const 1) c.Here)) (c.Then (c.Set 4 (c.Binary two.Add kind.Signed (c.Const 1) (c.Const 3))) (c.Then (c.Return (Some (c.Const 0))) c.End)))))))))) }) (s.Then 1 (s.Share 2 (Number (pos 16)) ([])) s.NoBlock (s.Then 2 (s.Set ([]) ([])) s.NoBlock (s.Then 3 (s.Set ([]) ([])) s.NoBlock (s.Then 4 (s.Apart 0 2 ([])) s.NoBlock (s.Then 5 (s.Set ([]) ([])) s.NoBlock (s.Then 6 (s.Set ([]) ([])) s.NoBlock (s.Then 7 (s.Forget (forgotten.Prop 0)) s.NoBlock (s.Then 8 (s.While (record { opened = (sort.Int ∷ sort.List ∷ []); facts = ((Rel relation.Le (Number (pos 0)) (Var 0 sort.Int)) ∷ (Rel relation.Le (Var 0 sort.Int) (Number (pos 4))) ∷ (Rel relation.Eq (Of unary.Len (Var 1 sort.List)) (Number (pos 4))) ∷ []); locals = ((name_s, (Of unary.Vi (Number (pos 3)))) ∷ (name_t, (Of unary.Vi (Number (pos 0)))) ∷ (name_i, (Of unary.Vi (Var 0 sort.Int))) ∷ (name_x1, (Of unary.Vi (Number (pos 16)))) ∷ []); items = ((Data (Number (pos 64)) (Global name_g) (Of2 binary.Cons (Of unary.Vi (Number (pos 3))) Nil)) ∷ (Data (Number (pos 64)) (Global name_arr) (Var 1 sort.List)) ∷ (Data (Number (pos 16)) (Global name_x) (Of2 binary.Cons (Of unary.Vi (Number (pos 3))) Nil)) ∷ (Data (Number (pos 48)) (Global name_x) (Of2 binary.Cons (Of unary.Vi (Number (pos 3))) Nil)) ∷ []) }) (record { opened = (sort.Int ∷ sort.List ∷ []); facts = ((Rel relation.Le (Number (pos 0)) (Var 0 sort.Int)) ∷ (Rel relation.Le (Var 0 sort.Int) (Number (pos 4))) ∷ (Rel relation.Eq (Of unary.Len (Var 1 sort.List)) (Number (pos 4))) ∷ (Rel relation.Le (Number (pos 4)) (Var 0 sort.Int)) ∷ []); locals = ((name_s, (Of unary.Vi (Number (pos 3)))) ∷ (name_t, (Of unary.Vi (Number (pos 0)))) ∷ (name_i, (Of unary.Vi (Var 0 sort.Int))) ∷ (name_x1, (Of unary.Vi (Number (pos 16)))) ∷ []); items = ((Data (Number (pos 64)) (Global name_g) (Of2 binary.Cons (Of unary.Vi (Number (pos 3))) Nil)) ∷ (Data (Number (pos 64)) (Global name_arr) (Var 1 sort.List)) ∷ (Data (Number (pos 16)) (Global name_x) (Of2 binary.Cons (Of unary.Vi (Number (pos 3))) Nil)) ∷ (Data (Number (pos 48)) (Global name_x) (Of2 binary.Cons (Of unary.Vi (Number (pos 3))) Nil)) ∷ []) }) (name_k3 ∷ name_k4 ∷ []) ([]) (name_k1 ∷ name_k2 ∷ [])) (s.WithBlock (s.Then 9 (s.Meet ((Number (pos 0)) ∷ (Of2 binary.Cons (Of unary.Vi (Number (pos 1))) (Of2 binary.Cons (Of unary.Vi (Number (pos 2))) (Of2 binary.Cons (Of unary.Vi (Number (pos 0))) (Of2 binary.Cons (Of unary.Vi (Number (pos 0))) Nil)))) ∷ []) ([])) s.NoBlock s.End) (s.WithBlock (s.Then 10 (s.Have (IsInt (Of unary.Vi (Number (pos 3)))) ([])) s.NoBlock (s.Then 11 (s.If ([]) ((record { lines = ((line.Comb (((pos 1), 0) ∷ ((pos 1), 4) ∷ [])) ∷ []) }) ∷ (record { lines = ((line.Comb (((pos 1), 1) ∷ ((pos 1), 4) ∷ [])) ∷ []) }) ∷ []) ([]) ([])) (s.WithBlock (s.Then 12 (s.Share 3 (Number (pos 16)) ([])) s.NoBlock (s.Then 13 (s.Unshare 3 4 ([])) s.NoBlock (s.Then 14 (s.Store 1 ([]) ((record { lines = ((line.Comb (((pos 1), 0) ∷ ((pos 1), 5) ∷ [])) ∷ []) }) ∷ (record { lines = ((line.Comb (((pos 1), 1) ∷ ((pos 1), 5) ∷ [])) ∷ []) }) ∷ (record { lines = ((line.Comb (((pos 1), 3) ∷ ((pos 1), 4) ∷ ((pos 1), 5) ∷ [])) ∷ []) }) ∷ [])) s.NoBlock (s.Then 15 (s.Law name_len_upd ((Named name_k2) ∷ (Named name_k1) ∷ (Of unary.Vi (Number (pos 7))) ∷ []) ([])) s.NoBlock (s.Then 16 (s.Set ([]) ((record { lines = ((line.Comb (((pos 1), 0) ∷ ((pos 1), 7) ∷ [])) ∷ []) }) ∷ (record { lines = ((line.Comb (((pos 1), 1) ∷ ((pos 1), 7) ∷ [])) ∷ []) }) ∷ (record { lines = ((line.Comb (((pos 1), 0) ∷ ((pos 1), 7) ∷ [])) ∷ []) }) ∷ (record { lines = ((line.Comb (((pos 1), 1) ∷ ((pos 1), 7) ∷ [])) ∷ []) }) ∷ (record { lines = ((line.Comb (((pos 1), 1) ∷ ((pos 1), 7) ∷ [])) ∷ []) }) ∷ [])) s.NoBlock (s.Then 17 (s.Rewrite false 2 (occurrence.Item 2)) s.NoBlock (s.Then 18 (s.Share 3 (Number (pos 1)) ([])) s.NoBlock (s.Then 19 (s.Unshare 4 3 ([])) s.NoBlock (s.Then 20 (s.Fall ((Of2 binary.Add (Named name_k1) (Number (pos 1))) ∷ (Of3 ternary.Upd (Named name_k2) (Named name_k1) (Of unary.Vi (Number (pos 7)))) ∷ []) ((record { lines = ((line.Comb (((pos 1), 0) ∷ ((pos 1), 7) ∷ [])) ∷ []) }) ∷ (record { lines = ((line.Comb (((pos 1), 5) ∷ ((pos 1), 2) ∷ ((pos 1), 7) ∷ [])) ∷ []) }) ∷ (record { lines = ((line.Comb (((pos 1), 6) ∷ ((pos 1), 3) ∷ ((pos 1), 7) ∷ [])) ∷ []) }) ∷ [])) s.NoBlock s.End))))))))) (s.WithBlock (s.Then 21 (s.Break ((Named name_k1) ∷ (Named name_k2) ∷ []) ([])) s.NoBlock s.End) s.NoBlock)) s.End)) s.NoBlock)) (s.Then 22 (s.Set ([]) ([])) s.NoBlock (s.Then 23 (s.Load 1 ([]) ((record { lines = ((line.Comb (((pos 1), 3) ∷ ((pos 1), 5) ∷ [])) ∷ []) }) ∷ [])) s.NoBlock (s.Then 24 (s.Load 1 ([]) ((record { lines = ((line.Comb (((pos 1), 3) ∷ ((pos 1), 5) ∷ [])) ∷ []) }) ∷ [])) s.NoBlock (s.Then 25 (s.Set ([]) ([])) s.NoBlock (s.Then 26 (s.Return ((Of2 binary.Cons (Of unary.Vi (Number (pos 3))) Nil) ∷ (Named name_k4) ∷ []) ([]) ([])) s.NoBlock s.End))))))))))))) ≡ (RefusedAt 16 2 3)
unfolding computing
random_469 = refl

random_470 : body_verdict (record { predicates = ([]); specs = ((record { is_void = false; name = name_main; params = ([]); vars = []; pre = (record { opened = []; facts = ([]); locals = []; items = ((Data (Number (pos 64)) (Global name_g) (Of2 binary.Cons (Of unary.Vi (Number (pos 3))) Nil)) ∷ (Data (Number (pos 64)) (Global name_arr) (Of2 binary.Cons (Of unary.Vi (Number (pos 1))) (Of2 binary.Cons (Of unary.Vi (Number (pos 2))) (Of2 binary.Cons (Of unary.Vi (Number (pos 0))) (Of2 binary.Cons (Of unary.Vi (Number (pos 0))) Nil))))) ∷ (Data (Number (pos 1)) (Global name_x) (Of2 binary.Cons (Of unary.Vi (Number (pos 3))) Nil)) ∷ []) }); post = (record { opened = (sort.List ∷ sort.List ∷ []); facts = ([]); locals = []; items = ((Data (Number (pos 64)) (Global name_g) (Var 1 sort.List)) ∷ (Data (Number (pos 64)) (Global name_arr) (Var 2 sort.List)) ∷ (Data (Number (pos 16)) (Global name_x) (Var 1 sort.List)) ∷ (Data (Number (pos 48)) (Global name_x) (Var 1 sort.List)) ∷ []) }) }) ∷ []) }) (record { is_void = false; name = name_main; params = ([]); vars = []; pre = (record { opened = []; facts = ([]); locals = []; items = ((Data (Number (pos 64)) (Global name_g) (Of2 binary.Cons (Of unary.Vi (Number (pos 3))) Nil)) ∷ (Data (Number (pos 64)) (Global name_arr) (Of2 binary.Cons (Of unary.Vi (Number (pos 1))) (Of2 binary.Cons (Of unary.Vi (Number (pos 2))) (Of2 binary.Cons (Of unary.Vi (Number (pos 0))) (Of2 binary.Cons (Of unary.Vi (Number (pos 0))) Nil))))) ∷ (Data (Number (pos 1)) (Global name_x) (Of2 binary.Cons (Of unary.Vi (Number (pos 3))) Nil)) ∷ []) }); post = (record { opened = (sort.List ∷ sort.List ∷ []); facts = ([]); locals = []; items = ((Data (Number (pos 64)) (Global name_g) (Var 1 sort.List)) ∷ (Data (Number (pos 64)) (Global name_arr) (Var 2 sort.List)) ∷ (Data (Number (pos 16)) (Global name_x) (Var 1 sort.List)) ∷ (Data (Number (pos 48)) (Global name_x) (Var 1 sort.List)) ∷ []) }) }) (record { temps = (name_s ∷ name_t ∷ name_i ∷ name_x1 ∷ name_d0 ∷ name_p1 ∷ name_q1 ∷ []); body = (c.Then (c.Set 0 (c.Const 3)) (c.Then (c.Set 1 (c.Const 0)) (c.Then (c.Set 3 (c.Binary two.Shl kind.Unsigned (c.Const 1) (c.Const 4))) (c.Then (c.Set 2 (c.Const 0)) (c.Then (c.Loop (c.Then (c.If (c.Nonzero kind.Signed (c.Binary two.Lt kind.Signed (c.Temp 2) (c.Const 4))) (c.Then (c.Store (root.Global name_arr 4) (c.Index kind.Signed (c.Temp 2) c.Here) (c.Const 7)) (c.Then (c.Set 2 (c.Binary two.Add kind.Signed (c.Temp 2) (c.Const 1))) c.End)) (c.Then c.Break c.End)) c.End)) (c.Then (c.Set 3 (c.Unary one.Invert kind.Unsigned (c.Const 0))) (c.Then (c.Load 1 (root.Global name_arr 4) (c.Index kind.Signed (c.Const 3) c.Here)) (c.Then (c.Load 0 (root.Global name_arr 4) (c.Index kind.Signed (c.Const 1) c.Here)) (c.Then (c.Set 4 (c.Binary two.Add kind.Signed (c.Const 1) (c.Const 3))) (c.Then (c.Return (Some (c.Const 0))) c.End)))))))))) }) (s.Then 1 (s.Share 2 (Number (pos 16)) ([])) s.NoBlock (s.Then 2 (s.Set ([]) ([])) s.NoBlock (s.Then 3 (s.Set ([]) ([])) s.NoBlock (s.Then 4 (s.Apart 0 2 ([])) s.NoBlock (s.Then 5 (s.Set ([]) ([])) s.NoBlock (s.Then 6 (s.Set ([]) ([])) s.NoBlock (s.Then 7 (s.Forget (forgotten.Prop 0)) s.NoBlock (s.Then 8 (s.While (record { opened = (sort.Int ∷ sort.List ∷ []); facts = ((Rel relation.Le (Number (pos 0)) (Var 0 sort.Int)) ∷ (Rel relation.Le (Var 0 sort.Int) (Number (pos 4))) ∷ (Rel relation.Eq (Of unary.Len (Var 1 sort.List)) (Number (pos 4))) ∷ []); locals = ((name_s, (Of unary.Vi (Number (pos 3)))) ∷ (name_t, (Of unary.Vi (Number (pos 0)))) ∷ (name_i, (Of unary.Vi (Var 0 sort.Int))) ∷ (name_x1, (Of unary.Vi (Number (pos 16)))) ∷ []); items = ((Data (Number (pos 64)) (Global name_g) (Of2 binary.Cons (Of unary.Vi (Number (pos 3))) Nil)) ∷ (Data (Number (pos 64)) (Global name_arr) (Var 1 sort.List)) ∷ (Data (Number (pos 16)) (Global name_x) (Of2 binary.Cons (Of unary.Vi (Number (pos 3))) Nil)) ∷ (Data (Number (pos 48)) (Global name_x) (Of2 binary.Cons (Of unary.Vi (Number (pos 3))) Nil)) ∷ []) }) (record { opened = (sort.Int ∷ sort.List ∷ []); facts = ((Rel relation.Le (Number (pos 0)) (Var 0 sort.Int)) ∷ (Rel relation.Le (Var 0 sort.Int) (Number (pos 4))) ∷ (Rel relation.Eq (Of unary.Len (Var 1 sort.List)) (Number (pos 4))) ∷ (Rel relation.Le (Number (pos 4)) (Var 0 sort.Int)) ∷ []); locals = ((name_s, (Of unary.Vi (Number (pos 3)))) ∷ (name_t, (Of unary.Vi (Number (pos 0)))) ∷ (name_i, (Of unary.Vi (Var 0 sort.Int))) ∷ (name_x1, (Of unary.Vi (Number (pos 16)))) ∷ []); items = ((Data (Number (pos 64)) (Global name_g) (Of2 binary.Cons (Of unary.Vi (Number (pos 3))) Nil)) ∷ (Data (Number (pos 64)) (Global name_arr) (Var 1 sort.List)) ∷ (Data (Number (pos 16)) (Global name_x) (Of2 binary.Cons (Of unary.Vi (Number (pos 3))) Nil)) ∷ (Data (Number (pos 48)) (Global name_x) (Of2 binary.Cons (Of unary.Vi (Number (pos 3))) Nil)) ∷ []) }) (name_k3 ∷ name_k4 ∷ []) ([]) (name_k1 ∷ name_k2 ∷ [])) (s.WithBlock (s.Then 9 (s.Meet ((Number (pos 0)) ∷ (Of2 binary.Cons (Of unary.Vi (Number (pos 1))) (Of2 binary.Cons (Of unary.Vi (Number (pos 2))) (Of2 binary.Cons (Of unary.Vi (Number (pos 0))) (Of2 binary.Cons (Of unary.Vi (Number (pos 0))) Nil)))) ∷ []) ([])) s.NoBlock s.End) (s.WithBlock (s.Then 10 (s.Have (IsInt (Of unary.Vi (Number (pos 3)))) ([])) s.NoBlock (s.Then 11 (s.If ([]) ((record { lines = ((line.Comb (((pos 1), 0) ∷ ((pos 1), 4) ∷ [])) ∷ []) }) ∷ (record { lines = ((line.Comb (((pos 1), 1) ∷ ((pos 1), 4) ∷ [])) ∷ []) }) ∷ []) ([]) ([])) (s.WithBlock (s.Then 12 (s.Share 3 (Number (pos 16)) ([])) s.NoBlock (s.Then 13 (s.Unshare 3 4 ([])) s.NoBlock (s.Then 14 (s.Store 1 ([]) ((record { lines = ((line.Comb (((pos 1), 0) ∷ ((pos 1), 5) ∷ [])) ∷ []) }) ∷ (record { lines = ((line.Comb (((pos 1), 1) ∷ ((pos 1), 5) ∷ [])) ∷ []) }) ∷ (record { lines = ((line.Comb (((pos 1), 3) ∷ ((pos 1), 4) ∷ ((pos 1), 5) ∷ [])) ∷ []) }) ∷ [])) s.NoBlock (s.Then 15 (s.Law name_len_upd ((Named name_k2) ∷ (Named name_k1) ∷ (Of unary.Vi (Number (pos 7))) ∷ []) ([])) s.NoBlock (s.Then 16 (s.Set ([]) ((record { lines = ((line.Comb (((pos 1), 0) ∷ ((pos 1), 7) ∷ [])) ∷ []) }) ∷ (record { lines = ((line.Comb (((pos 1), 1) ∷ ((pos 1), 7) ∷ [])) ∷ []) }) ∷ (record { lines = ((line.Comb (((pos 1), 0) ∷ ((pos 1), 7) ∷ [])) ∷ []) }) ∷ (record { lines = ((line.Comb (((pos 1), 1) ∷ ((pos 1), 7) ∷ [])) ∷ []) }) ∷ [])) s.NoBlock (s.Then 17 (s.Rewrite false 2 (occurrence.Item 2)) s.NoBlock (s.Then 18 (s.Share 3 (Number (pos 1)) ([])) s.NoBlock (s.Then 19 (s.Unshare 4 3 ([])) s.NoBlock (s.Then 20 (s.Fall ((Of2 binary.Add (Named name_k1) (Number (pos 1))) ∷ (Of3 ternary.Upd (Named name_k2) (Named name_k1) (Of unary.Vi (Number (pos 7)))) ∷ []) ((record { lines = ((line.Comb (((pos 1), 0) ∷ ((pos 1), 7) ∷ [])) ∷ []) }) ∷ (record { lines = ((line.Comb (((pos 1), 5) ∷ ((pos 1), 2) ∷ ((pos 1), 7) ∷ [])) ∷ []) }) ∷ (record { lines = ((line.Comb (((pos 1), 6) ∷ ((pos 1), 3) ∷ ((pos 1), 7) ∷ [])) ∷ []) }) ∷ [])) s.NoBlock s.End))))))))) (s.WithBlock (s.Then 21 (s.Break ((Named name_k1) ∷ (Named name_k2) ∷ []) ([])) s.NoBlock s.End) s.NoBlock)) s.End)) s.NoBlock)) (s.Then 22 (s.Set ([]) ([])) s.NoBlock (s.Then 23 (s.Load 1 ([]) ((record { lines = ((line.Comb (((pos 1), 3) ∷ ((pos 1), 5) ∷ [])) ∷ []) }) ∷ [])) s.NoBlock (s.Then 24 (s.Load 1 ([]) ((record { lines = ((line.Comb (((pos 1), 3) ∷ ((pos 1), 5) ∷ [])) ∷ []) }) ∷ [])) s.NoBlock (s.Then 25 (s.Set ([]) ([])) s.NoBlock (s.Then 26 (s.Return ((Of2 binary.Cons (Of unary.Vi (Number (pos 3))) Nil) ∷ (Named name_k4) ∷ []) ([]) ([])) s.NoBlock s.End))))))))))))) ≡ (RefusedAt 1 31 3)
unfolding computing
random_470 = refl

random_471 : body_verdict (record { predicates = ([]); specs = ((record { is_void = false; name = name_main; params = ([]); vars = []; pre = (record { opened = []; facts = ([]); locals = []; items = ((Data (Number (pos 64)) (Global name_g) (Of2 binary.Cons (Of unary.Vi (Number (pos 3))) Nil)) ∷ (Data (Number (pos 64)) (Global name_arr) (Of2 binary.Cons (Of unary.Vi (Number (pos 1))) (Of2 binary.Cons (Of unary.Vi (Number (pos 2))) (Of2 binary.Cons (Of unary.Vi (Number (pos 0))) (Of2 binary.Cons (Of unary.Vi (Number (pos 0))) Nil))))) ∷ (Data (Number (pos 64)) (Global name_x) (Of2 binary.Cons (Of unary.Vi (Number (pos 3))) Nil)) ∷ []) }); post = (record { opened = (sort.List ∷ sort.List ∷ []); facts = ([]); locals = []; items = ((Data (Number (pos 64)) (Global name_g) (Var 1 sort.List)) ∷ (Data (Number (pos 64)) (Global name_arr) (Var 2 sort.List)) ∷ (Data (Number (pos 16)) (Global name_x) (Var 1 sort.List)) ∷ (Data (Number (pos 48)) (Global name_x) (Var 1 sort.List)) ∷ []) }) }) ∷ []) }) (record { is_void = false; name = name_main; params = ([]); vars = []; pre = (record { opened = []; facts = ([]); locals = []; items = ((Data (Number (pos 64)) (Global name_g) (Of2 binary.Cons (Of unary.Vi (Number (pos 3))) Nil)) ∷ (Data (Number (pos 64)) (Global name_arr) (Of2 binary.Cons (Of unary.Vi (Number (pos 1))) (Of2 binary.Cons (Of unary.Vi (Number (pos 2))) (Of2 binary.Cons (Of unary.Vi (Number (pos 0))) (Of2 binary.Cons (Of unary.Vi (Number (pos 0))) Nil))))) ∷ (Data (Number (pos 64)) (Global name_x) (Of2 binary.Cons (Of unary.Vi (Number (pos 3))) Nil)) ∷ []) }); post = (record { opened = (sort.List ∷ sort.List ∷ []); facts = ([]); locals = []; items = ((Data (Number (pos 64)) (Global name_g) (Var 1 sort.List)) ∷ (Data (Number (pos 64)) (Global name_arr) (Var 2 sort.List)) ∷ (Data (Number (pos 16)) (Global name_x) (Var 1 sort.List)) ∷ (Data (Number (pos 48)) (Global name_x) (Var 1 sort.List)) ∷ []) }) }) (record { temps = (name_s ∷ name_t ∷ name_i ∷ name_x1 ∷ name_d0 ∷ name_p1 ∷ name_q1 ∷ []); body = (c.Then (c.Set 0 (c.Const 3)) (c.Then (c.Set 1 (c.Const 0)) (c.Then (c.Set 3 (c.Binary two.Shl kind.Unsigned (c.Const 1) (c.Const 4))) (c.Then (c.Set 2 (c.Const 0)) (c.Then (c.Loop (c.Then (c.If (c.Nonzero kind.Signed (c.Binary two.Lt kind.Signed (c.Temp 2) (c.Const 4))) (c.Then (c.Store (root.Global name_arr 4) (c.Index kind.Signed (c.Temp 2) c.Here) (c.Const 7)) (c.Then (c.Set 2 (c.Binary two.Add kind.Signed (c.Temp 2) (c.Const 1))) c.End)) (c.Then c.Break c.End)) c.End)) (c.Then (c.Set 3 (c.Unary one.Invert kind.Unsigned (c.Const 0))) (c.Then (c.Load 1 (root.Global name_arr 4) (c.Index kind.Signed (c.Const 3) c.Here)) (c.Then (c.Load 0 (root.Global name_arr 4) (c.Index kind.Signed (c.Const 1) c.Here)) (c.Then (c.Set 4 (c.Binary two.Add kind.Signed (c.Const 1) (c.Const 3))) (c.Then (c.Return (Some (c.Const 0))) c.End)))))))))) }) (s.Then 1 (s.If ([]) ((record { lines = ((line.Comb (((pos 1), 0) ∷ ((pos 1), 4) ∷ [])) ∷ []) }) ∷ (record { lines = ((line.Comb (((pos 1), 1) ∷ ((pos 1), 4) ∷ [])) ∷ []) }) ∷ []) ([]) ([])) (s.WithBlock (s.Then 2 (s.Share 3 (Number (pos 16)) ([])) s.NoBlock (s.Then 3 (s.Unshare 3 4 ([])) s.NoBlock (s.Then 4 (s.Store 1 ([]) ((record { lines = ((line.Comb (((pos 1), 0) ∷ ((pos 1), 5) ∷ [])) ∷ []) }) ∷ (record { lines = ((line.Comb (((pos 1), 1) ∷ ((pos 1), 5) ∷ [])) ∷ []) }) ∷ (record { lines = ((line.Comb (((pos 1), 3) ∷ ((pos 1), 4) ∷ ((pos 1), 5) ∷ [])) ∷ []) }) ∷ [])) s.NoBlock (s.Then 5 (s.Law name_len_upd ((Named name_k2) ∷ (Named name_k1) ∷ (Of unary.Vi (Number (pos 7))) ∷ []) ([])) s.NoBlock (s.Then 6 (s.Set ([]) ((record { lines = ((line.Comb (((pos 1), 0) ∷ ((pos 1), 7) ∷ [])) ∷ []) }) ∷ (record { lines = ((line.Comb (((pos 1), 1) ∷ ((pos 1), 7) ∷ [])) ∷ []) }) ∷ (record { lines = ((line.Comb (((pos 1), 0) ∷ ((pos 1), 7) ∷ [])) ∷ []) }) ∷ (record { lines = ((line.Comb (((pos 1), 1) ∷ ((pos 1), 7) ∷ [])) ∷ []) }) ∷ [])) s.NoBlock (s.Then 7 (s.Rewrite false 2 (occurrence.Item 2)) s.NoBlock (s.Then 8 (s.Share 3 (Number (pos 1)) ([])) s.NoBlock (s.Then 9 (s.Unshare 4 3 ([])) s.NoBlock (s.Then 10 (s.Fall ((Of2 binary.Add (Named name_k1) (Number (pos 1))) ∷ (Of3 ternary.Upd (Named name_k2) (Named name_k1) (Of unary.Vi (Number (pos 7)))) ∷ []) ((record { lines = ((line.Comb (((pos 1), 0) ∷ ((pos 1), 7) ∷ [])) ∷ []) }) ∷ (record { lines = ((line.Comb (((pos 1), 5) ∷ ((pos 1), 2) ∷ ((pos 1), 7) ∷ [])) ∷ []) }) ∷ (record { lines = ((line.Comb (((pos 1), 6) ∷ ((pos 1), 3) ∷ ((pos 1), 7) ∷ [])) ∷ []) }) ∷ [])) s.NoBlock s.End))))))))) (s.WithBlock (s.Then 11 (s.Break ((Named name_k1) ∷ (Named name_k2) ∷ []) ([])) s.NoBlock s.End) s.NoBlock)) (s.Then 12 (s.Set ([]) ([])) s.NoBlock (s.Then 13 (s.Set ([]) ([])) s.NoBlock (s.Then 14 (s.Apart 0 2 ([])) s.NoBlock (s.Then 15 (s.Set ([]) ([])) s.NoBlock (s.Then 16 (s.Set ([]) ([])) s.NoBlock (s.Then 17 (s.Forget (forgotten.Prop 0)) s.NoBlock (s.Then 18 (s.While (record { opened = (sort.Int ∷ sort.List ∷ []); facts = ((Rel relation.Le (Number (pos 0)) (Var 0 sort.Int)) ∷ (Rel relation.Le (Var 0 sort.Int) (Number (pos 4))) ∷ (Rel relation.Eq (Of unary.Len (Var 1 sort.List)) (Number (pos 4))) ∷ []); locals = ((name_s, (Of unary.Vi (Number (pos 3)))) ∷ (name_t, (Of unary.Vi (Number (pos 0)))) ∷ (name_i, (Of unary.Vi (Var 0 sort.Int))) ∷ (name_x1, (Of unary.Vi (Number (pos 16)))) ∷ []); items = ((Data (Number (pos 64)) (Global name_g) (Of2 binary.Cons (Of unary.Vi (Number (pos 3))) Nil)) ∷ (Data (Number (pos 64)) (Global name_arr) (Var 1 sort.List)) ∷ (Data (Number (pos 16)) (Global name_x) (Of2 binary.Cons (Of unary.Vi (Number (pos 3))) Nil)) ∷ (Data (Number (pos 48)) (Global name_x) (Of2 binary.Cons (Of unary.Vi (Number (pos 3))) Nil)) ∷ []) }) (record { opened = (sort.Int ∷ sort.List ∷ []); facts = ((Rel relation.Le (Number (pos 0)) (Var 0 sort.Int)) ∷ (Rel relation.Le (Var 0 sort.Int) (Number (pos 4))) ∷ (Rel relation.Eq (Of unary.Len (Var 1 sort.List)) (Number (pos 4))) ∷ (Rel relation.Le (Number (pos 4)) (Var 0 sort.Int)) ∷ []); locals = ((name_s, (Of unary.Vi (Number (pos 3)))) ∷ (name_t, (Of unary.Vi (Number (pos 0)))) ∷ (name_i, (Of unary.Vi (Var 0 sort.Int))) ∷ (name_x1, (Of unary.Vi (Number (pos 16)))) ∷ []); items = ((Data (Number (pos 64)) (Global name_g) (Of2 binary.Cons (Of unary.Vi (Number (pos 3))) Nil)) ∷ (Data (Number (pos 64)) (Global name_arr) (Var 1 sort.List)) ∷ (Data (Number (pos 16)) (Global name_x) (Of2 binary.Cons (Of unary.Vi (Number (pos 3))) Nil)) ∷ (Data (Number (pos 48)) (Global name_x) (Of2 binary.Cons (Of unary.Vi (Number (pos 3))) Nil)) ∷ []) }) (name_k3 ∷ name_k4 ∷ []) ([]) (name_k1 ∷ name_k2 ∷ [])) (s.WithBlock (s.Then 19 (s.Meet ((Number (pos 0)) ∷ (Of2 binary.Cons (Of unary.Vi (Number (pos 1))) (Of2 binary.Cons (Of unary.Vi (Number (pos 2))) (Of2 binary.Cons (Of unary.Vi (Number (pos 0))) (Of2 binary.Cons (Of unary.Vi (Number (pos 0))) Nil)))) ∷ []) ([])) s.NoBlock s.End) (s.WithBlock (s.Then 20 (s.Have (IsInt (Of unary.Vi (Number (pos 3)))) ([])) s.NoBlock (s.Then 21 (s.Share 2 (Number (pos 16)) ([])) s.NoBlock s.End)) s.NoBlock)) (s.Then 22 (s.Set ([]) ([])) s.NoBlock (s.Then 23 (s.Load 1 ([]) ((record { lines = ((line.Comb (((pos 1), 3) ∷ ((pos 1), 5) ∷ [])) ∷ []) }) ∷ [])) s.NoBlock (s.Then 24 (s.Load 1 ([]) ((record { lines = ((line.Comb (((pos 1), 3) ∷ ((pos 1), 5) ∷ [])) ∷ []) }) ∷ [])) s.NoBlock (s.Then 25 (s.Set ([]) ([])) s.NoBlock (s.Then 26 (s.Return ((Of2 binary.Cons (Of unary.Vi (Number (pos 3))) Nil) ∷ (Named name_k4) ∷ []) ([]) ([])) s.NoBlock s.End))))))))))))) ≡ (RefusedAt 1 5 1)
unfolding computing
random_471 = refl

random_472 : body_verdict (record { predicates = ([]); specs = ((record { is_void = false; name = name_main; params = ([]); vars = []; pre = (record { opened = []; facts = ([]); locals = []; items = ((Data (Number (pos 64)) (Global name_g) (Of2 binary.Cons (Of unary.Vi (Number (pos 3))) Nil)) ∷ (Data (Number (pos 64)) (Global name_arr) (Of2 binary.Cons (Of unary.Vi (Number (pos 1))) (Of2 binary.Cons (Of unary.Vi (Number (pos 2))) (Of2 binary.Cons (Of unary.Vi (Number (pos 0))) (Of2 binary.Cons (Of unary.Vi (Number (pos 0))) Nil))))) ∷ (Data (Number (pos 64)) (Global name_x) (Of2 binary.Cons (Of unary.Vi (Number (pos 3))) Nil)) ∷ []) }); post = (record { opened = (sort.List ∷ sort.List ∷ []); facts = ([]); locals = []; items = ((Data (Number (pos 64)) (Global name_g) (Var 1 sort.List)) ∷ (Data (Number (pos 64)) (Global name_arr) (Var 2 sort.List)) ∷ (Data (Number (pos 16)) (Global name_x) (Var 1 sort.List)) ∷ (Data (Number (pos 48)) (Global name_x) (Var 1 sort.List)) ∷ []) }) }) ∷ []) }) (record { is_void = false; name = name_main; params = ([]); vars = []; pre = (record { opened = []; facts = ([]); locals = []; items = ((Data (Number (pos 64)) (Global name_g) (Of2 binary.Cons (Of unary.Vi (Number (pos 3))) Nil)) ∷ (Data (Number (pos 64)) (Global name_arr) (Of2 binary.Cons (Of unary.Vi (Number (pos 1))) (Of2 binary.Cons (Of unary.Vi (Number (pos 2))) (Of2 binary.Cons (Of unary.Vi (Number (pos 0))) (Of2 binary.Cons (Of unary.Vi (Number (pos 0))) Nil))))) ∷ (Data (Number (pos 64)) (Global name_x) (Of2 binary.Cons (Of unary.Vi (Number (pos 3))) Nil)) ∷ []) }); post = (record { opened = (sort.List ∷ sort.List ∷ []); facts = ([]); locals = []; items = ((Data (Number (pos 64)) (Global name_g) (Var 1 sort.List)) ∷ (Data (Number (pos 64)) (Global name_arr) (Var 2 sort.List)) ∷ (Data (Number (pos 16)) (Global name_x) (Var 1 sort.List)) ∷ (Data (Number (pos 48)) (Global name_x) (Var 1 sort.List)) ∷ []) }) }) (record { temps = (name_s ∷ name_t ∷ name_i ∷ name_x1 ∷ name_d0 ∷ name_p1 ∷ name_q1 ∷ []); body = (c.Then (c.Set 0 (c.Const 3)) (c.Then (c.Set 1 (c.Const 0)) (c.Then (c.Set 3 (c.Binary two.Shr kind.Unsigned (c.Const 1) (c.Const 4))) (c.Then (c.Set 2 (c.Const 0)) (c.Then (c.Loop (c.Then (c.If (c.Nonzero kind.Signed (c.Binary two.Lt kind.Signed (c.Temp 2) (c.Const 4))) (c.Then (c.Store (root.Global name_arr 4) (c.Index kind.Signed (c.Temp 2) c.Here) (c.Const 7)) (c.Then (c.Set 2 (c.Binary two.Add kind.Signed (c.Temp 2) (c.Const 1))) c.End)) (c.Then c.Break c.End)) c.End)) (c.Then (c.Set 3 (c.Unary one.Invert kind.Unsigned (c.Const 0))) (c.Then (c.Load 1 (root.Global name_arr 4) (c.Index kind.Signed (c.Const 3) c.Here)) (c.Then (c.Load 0 (root.Global name_arr 4) (c.Index kind.Signed (c.Const 1) c.Here)) (c.Then (c.Set 4 (c.Binary two.Add kind.Signed (c.Const 1) (c.Const 3))) (c.Then (c.Return (Some (c.Const 0))) c.End)))))))))) }) (s.Then 1 (s.Share 2 (Number (pos 16)) ([])) s.NoBlock (s.Then 2 (s.Set ([]) ([])) s.NoBlock (s.Then 3 (s.Set ([]) ([])) s.NoBlock (s.Then 4 (s.Apart 0 2 ([])) s.NoBlock (s.Then 5 (s.Set ([]) ([])) s.NoBlock (s.Then 6 (s.Set ([]) ([])) s.NoBlock (s.Then 7 (s.Forget (forgotten.Prop 0)) s.NoBlock (s.Then 8 (s.While (record { opened = (sort.Int ∷ sort.List ∷ []); facts = ((Rel relation.Le (Number (pos 0)) (Var 0 sort.Int)) ∷ (Rel relation.Le (Var 0 sort.Int) (Number (pos 4))) ∷ (Rel relation.Eq (Of unary.Len (Var 1 sort.List)) (Number (pos 4))) ∷ []); locals = ((name_s, (Of unary.Vi (Number (pos 3)))) ∷ (name_t, (Of unary.Vi (Number (pos 0)))) ∷ (name_i, (Of unary.Vi (Var 0 sort.Int))) ∷ (name_x1, (Of unary.Vi (Number (pos 16)))) ∷ []); items = ((Data (Number (pos 64)) (Global name_g) (Of2 binary.Cons (Of unary.Vi (Number (pos 3))) Nil)) ∷ (Data (Number (pos 64)) (Global name_arr) (Var 1 sort.List)) ∷ (Data (Number (pos 16)) (Global name_x) (Of2 binary.Cons (Of unary.Vi (Number (pos 3))) Nil)) ∷ (Data (Number (pos 48)) (Global name_x) (Of2 binary.Cons (Of unary.Vi (Number (pos 3))) Nil)) ∷ []) }) (record { opened = (sort.Int ∷ sort.List ∷ []); facts = ((Rel relation.Le (Number (pos 0)) (Var 0 sort.Int)) ∷ (Rel relation.Le (Var 0 sort.Int) (Number (pos 4))) ∷ (Rel relation.Eq (Of unary.Len (Var 1 sort.List)) (Number (pos 4))) ∷ (Rel relation.Le (Number (pos 4)) (Var 0 sort.Int)) ∷ []); locals = ((name_s, (Of unary.Vi (Number (pos 3)))) ∷ (name_t, (Of unary.Vi (Number (pos 0)))) ∷ (name_i, (Of unary.Vi (Var 0 sort.Int))) ∷ (name_x1, (Of unary.Vi (Number (pos 16)))) ∷ []); items = ((Data (Number (pos 64)) (Global name_g) (Of2 binary.Cons (Of unary.Vi (Number (pos 3))) Nil)) ∷ (Data (Number (pos 64)) (Global name_arr) (Var 1 sort.List)) ∷ (Data (Number (pos 16)) (Global name_x) (Of2 binary.Cons (Of unary.Vi (Number (pos 3))) Nil)) ∷ (Data (Number (pos 48)) (Global name_x) (Of2 binary.Cons (Of unary.Vi (Number (pos 3))) Nil)) ∷ []) }) (name_k3 ∷ name_k4 ∷ []) ([]) (name_k1 ∷ name_k2 ∷ [])) (s.WithBlock (s.Then 9 (s.Meet ((Number (pos 0)) ∷ (Of2 binary.Cons (Of unary.Vi (Number (pos 1))) (Of2 binary.Cons (Of unary.Vi (Number (pos 2))) (Of2 binary.Cons (Of unary.Vi (Number (pos 0))) (Of2 binary.Cons (Of unary.Vi (Number (pos 0))) Nil)))) ∷ []) ([])) s.NoBlock s.End) (s.WithBlock (s.Then 10 (s.Have (IsInt (Of unary.Vi (Number (pos 3)))) ([])) s.NoBlock (s.Then 11 (s.If ([]) ((record { lines = ((line.Comb (((pos 1), 0) ∷ ((pos 1), 4) ∷ [])) ∷ []) }) ∷ (record { lines = ((line.Comb (((pos 1), 1) ∷ ((pos 1), 4) ∷ [])) ∷ []) }) ∷ []) ([]) ([])) (s.WithBlock (s.Then 12 (s.Share 3 (Number (pos 16)) ([])) s.NoBlock (s.Then 13 (s.Unshare 3 4 ([])) s.NoBlock (s.Then 14 (s.Store 1 ([]) ((record { lines = ((line.Comb (((pos 1), 0) ∷ ((pos 1), 5) ∷ [])) ∷ []) }) ∷ (record { lines = ((line.Comb (((pos 1), 1) ∷ ((pos 1), 5) ∷ [])) ∷ []) }) ∷ (record { lines = ((line.Comb (((pos 1), 3) ∷ ((pos 1), 4) ∷ ((pos 1), 5) ∷ [])) ∷ []) }) ∷ [])) s.NoBlock (s.Then 15 (s.Law name_len_upd ((Named name_k2) ∷ (Named name_k1) ∷ (Of unary.Vi (Number (pos 7))) ∷ []) ([])) s.NoBlock (s.Then 16 (s.Set ([]) ((record { lines = ((line.Comb (((pos 1), 0) ∷ ((pos 1), 7) ∷ [])) ∷ []) }) ∷ (record { lines = ((line.Comb (((pos 1), 1) ∷ ((pos 1), 7) ∷ [])) ∷ []) }) ∷ (record { lines = ((line.Comb (((pos 1), 0) ∷ ((pos 1), 7) ∷ [])) ∷ []) }) ∷ (record { lines = ((line.Comb (((pos 1), 1) ∷ ((pos 1), 7) ∷ [])) ∷ []) }) ∷ [])) s.NoBlock (s.Then 17 (s.Rewrite false 2 (occurrence.Item 2)) s.NoBlock (s.Then 18 (s.Share 3 (Number (pos 1)) ([])) s.NoBlock (s.Then 19 (s.Unshare 4 3 ([])) s.NoBlock (s.Then 20 (s.Fall ((Of2 binary.Add (Named name_k1) (Number (pos 1))) ∷ (Of3 ternary.Upd (Named name_k2) (Named name_k1) (Of unary.Vi (Number (pos 7)))) ∷ []) ((record { lines = ((line.Comb (((pos 1), 0) ∷ ((pos 1), 7) ∷ [])) ∷ []) }) ∷ (record { lines = ((line.Comb (((pos 1), 5) ∷ ((pos 1), 2) ∷ ((pos 1), 7) ∷ [])) ∷ []) }) ∷ (record { lines = ((line.Comb (((pos 1), 6) ∷ ((pos 1), 3) ∷ ((pos 1), 7) ∷ [])) ∷ []) }) ∷ [])) s.NoBlock s.End))))))))) (s.WithBlock (s.Then 21 (s.Break ((Named name_k1) ∷ (Named name_k2) ∷ []) ([])) s.NoBlock s.End) s.NoBlock)) s.End)) s.NoBlock)) (s.Then 22 (s.Set ([]) ([])) s.NoBlock (s.Then 23 (s.Load 1 ([]) ((record { lines = ((line.Comb (((pos 1), 3) ∷ ((pos 1), 5) ∷ [])) ∷ []) }) ∷ [])) s.NoBlock (s.Then 24 (s.Load 1 ([]) ((record { lines = ((line.Comb (((pos 1), 3) ∷ ((pos 1), 5) ∷ [])) ∷ []) }) ∷ [])) s.NoBlock (s.Then 25 (s.Set ([]) ([])) s.NoBlock (s.Then 26 (s.Return ((Of2 binary.Cons (Of unary.Vi (Number (pos 3))) Nil) ∷ (Named name_k4) ∷ []) ([]) ([])) s.NoBlock s.End))))))))))))) ≡ (RefusedAt 9 37 4)
unfolding computing
random_472 = refl

random_473 : body_verdict (record { predicates = ([]); specs = ((record { is_void = false; name = name_main; params = ([]); vars = []; pre = (record { opened = []; facts = ([]); locals = []; items = ((Data (Number (pos 64)) (Global name_g) (Of2 binary.Cons (Of unary.Vi (Number (pos 3))) Nil)) ∷ (Data (Number (pos 64)) (Global name_arr) (Of2 binary.Cons (Of unary.Vi (Number (pos 1))) (Of2 binary.Cons (Of unary.Vi (Number (pos 2))) (Of2 binary.Cons (Of unary.Vi (Number (pos 0))) (Of2 binary.Cons (Of unary.Vi (Number (pos 0))) Nil))))) ∷ (Data (Number (pos 64)) (Global name_x) (Of2 binary.Cons (Of unary.Vi (Number (pos 3))) Nil)) ∷ []) }); post = (record { opened = (sort.List ∷ sort.List ∷ []); facts = ([]); locals = []; items = ((Data (Number (pos 64)) (Global name_g) (Var 1 sort.List)) ∷ (Data (Number (pos 64)) (Global name_arr) (Var 2 sort.List)) ∷ (Data (Number (pos 16)) (Global name_x) (Var 1 sort.List)) ∷ (Data (Number (pos 48)) (Global name_x) (Var 1 sort.List)) ∷ []) }) }) ∷ []) }) (record { is_void = false; name = name_main; params = ([]); vars = []; pre = (record { opened = []; facts = ([]); locals = []; items = ((Data (Number (pos 64)) (Global name_g) (Of2 binary.Cons (Of unary.Vi (Number (pos 3))) Nil)) ∷ (Data (Number (pos 64)) (Global name_arr) (Of2 binary.Cons (Of unary.Vi (Number (pos 1))) (Of2 binary.Cons (Of unary.Vi (Number (pos 2))) (Of2 binary.Cons (Of unary.Vi (Number (pos 0))) (Of2 binary.Cons (Of unary.Vi (Number (pos 0))) Nil))))) ∷ (Data (Number (pos 64)) (Global name_x) (Of2 binary.Cons (Of unary.Vi (Number (pos 3))) Nil)) ∷ []) }); post = (record { opened = (sort.List ∷ sort.List ∷ []); facts = ([]); locals = []; items = ((Data (Number (pos 64)) (Global name_g) (Var 1 sort.List)) ∷ (Data (Number (pos 64)) (Global name_arr) (Var 2 sort.List)) ∷ (Data (Number (pos 16)) (Global name_x) (Var 1 sort.List)) ∷ (Data (Number (pos 48)) (Global name_x) (Var 1 sort.List)) ∷ []) }) }) (record { temps = (name_s ∷ name_t ∷ name_i ∷ name_x1 ∷ name_d0 ∷ name_p1 ∷ name_q1 ∷ []); body = (c.Then (c.Set 0 (c.Const 3)) (c.Then (c.Set 1 (c.Const 0)) (c.Then (c.Set 3 (c.Binary two.Shl kind.Unsigned (c.Const 1) (c.Const 4))) (c.Then (c.Set 2 (c.Const 0)) (c.Then (c.Loop (c.Then (c.If (c.Nonzero kind.Signed (c.Binary two.Lt kind.Signed (c.Temp 2) (c.Const 4))) (c.Then (c.Store (root.Global name_arr 4) (c.Index kind.Signed (c.Temp 2) c.Here) (c.Const 7)) (c.Then (c.Set 2 (c.Binary two.Add kind.Signed (c.Temp 2) (c.Const 1))) c.End)) (c.Then c.Break c.End)) c.End)) (c.Then (c.Set 3 (c.Unary one.Invert kind.Unsigned (c.Const 0))) (c.Then (c.Load 1 (root.Global name_arr 4) (c.Index kind.Signed (c.Const 3) c.Here)) (c.Then (c.Load 0 (root.Global name_arr 4) (c.Index kind.Signed (c.Const 1) c.Here)) (c.Then (c.Set 4 (c.Binary two.Add kind.Signed (c.Const 65) (c.Const 3))) (c.Then (c.Return (Some (c.Const 0))) c.End)))))))))) }) (s.Then 1 (s.Share 2 (Number (pos 16)) ([])) s.NoBlock (s.Then 2 (s.Set ([]) ([])) s.NoBlock (s.Then 3 (s.Set ([]) ([])) s.NoBlock (s.Then 4 (s.Apart 0 2 ([])) s.NoBlock (s.Then 5 (s.Set ([]) ([])) s.NoBlock (s.Then 6 (s.Set ([]) ([])) s.NoBlock (s.Then 7 (s.Forget (forgotten.Prop 0)) s.NoBlock (s.Then 8 (s.While (record { opened = (sort.Int ∷ sort.List ∷ []); facts = ((Rel relation.Le (Number (pos 0)) (Var 0 sort.Int)) ∷ (Rel relation.Le (Var 0 sort.Int) (Number (pos 4))) ∷ (Rel relation.Eq (Of unary.Len (Var 1 sort.List)) (Number (pos 4))) ∷ []); locals = ((name_s, (Of unary.Vi (Number (pos 3)))) ∷ (name_t, (Of unary.Vi (Number (pos 0)))) ∷ (name_i, (Of unary.Vi (Var 0 sort.Int))) ∷ (name_x1, (Of unary.Vi (Number (pos 16)))) ∷ []); items = ((Data (Number (pos 64)) (Global name_g) (Of2 binary.Cons (Of unary.Vi (Number (pos 3))) Nil)) ∷ (Data (Number (pos 64)) (Global name_arr) (Var 1 sort.List)) ∷ (Data (Number (pos 16)) (Global name_x) (Of2 binary.Cons (Of unary.Vi (Number (pos 3))) Nil)) ∷ (Data (Number (pos 48)) (Global name_x) (Of2 binary.Cons (Of unary.Vi (Number (pos 3))) Nil)) ∷ []) }) (record { opened = (sort.Int ∷ sort.List ∷ []); facts = ((Rel relation.Le (Number (pos 0)) (Var 0 sort.Int)) ∷ (Rel relation.Le (Var 0 sort.Int) (Number (pos 4))) ∷ (Rel relation.Eq (Of unary.Len (Var 1 sort.List)) (Number (pos 4))) ∷ (Rel relation.Le (Number (pos 4)) (Var 0 sort.Int)) ∷ []); locals = ((name_s, (Of unary.Vi (Number (pos 3)))) ∷ (name_t, (Of unary.Vi (Number (pos 0)))) ∷ (name_i, (Of unary.Vi (Var 0 sort.Int))) ∷ (name_x1, (Of unary.Vi (Number (pos 16)))) ∷ []); items = ((Data (Number (pos 64)) (Global name_g) (Of2 binary.Cons (Of unary.Vi (Number (pos 3))) Nil)) ∷ (Data (Number (pos 64)) (Global name_arr) (Var 1 sort.List)) ∷ (Data (Number (pos 16)) (Global name_x) (Of2 binary.Cons (Of unary.Vi (Number (pos 3))) Nil)) ∷ (Data (Number (pos 48)) (Global name_x) (Of2 binary.Cons (Of unary.Vi (Number (pos 3))) Nil)) ∷ []) }) (name_k3 ∷ name_k4 ∷ []) ([]) (name_k1 ∷ name_k2 ∷ [])) (s.WithBlock (s.Then 9 (s.Meet ((Number (pos 0)) ∷ (Of2 binary.Cons (Of unary.Vi (Number (pos 1))) (Of2 binary.Cons (Of unary.Vi (Number (pos 2))) (Of2 binary.Cons (Of unary.Vi (Number (pos 0))) (Of2 binary.Cons (Of unary.Vi (Number (pos 0))) Nil)))) ∷ []) ([])) s.NoBlock s.End) (s.WithBlock (s.Then 10 (s.Have (IsInt (Of unary.Vi (Number (pos 3)))) ([])) s.NoBlock (s.Then 11 (s.If ([]) ((record { lines = ((line.Comb (((pos 1), 0) ∷ ((pos 1), 4) ∷ [])) ∷ []) }) ∷ (record { lines = ((line.Comb (((pos 1), 1) ∷ ((pos 1), 4) ∷ [])) ∷ []) }) ∷ []) ([]) ([])) (s.WithBlock (s.Then 12 (s.Share 3 (Number (pos 16)) ([])) s.NoBlock (s.Then 13 (s.Unshare 3 4 ([])) s.NoBlock (s.Then 14 (s.Store 1 ([]) ((record { lines = ((line.Comb (((pos 1), 0) ∷ ((pos 1), 5) ∷ [])) ∷ []) }) ∷ (record { lines = ((line.Comb (((pos 1), 1) ∷ ((pos 1), 5) ∷ [])) ∷ []) }) ∷ (record { lines = ((line.Comb (((pos 64), 3) ∷ ((pos 1), 4) ∷ ((pos 1), 5) ∷ [])) ∷ []) }) ∷ [])) s.NoBlock (s.Then 15 (s.Law name_len_upd ((Named name_k2) ∷ (Named name_k1) ∷ (Of unary.Vi (Number (pos 7))) ∷ []) ([])) s.NoBlock (s.Then 16 (s.Set ([]) ((record { lines = ((line.Comb (((pos 1), 0) ∷ ((pos 1), 7) ∷ [])) ∷ []) }) ∷ (record { lines = ((line.Comb (((pos 1), 1) ∷ ((pos 1), 7) ∷ [])) ∷ []) }) ∷ (record { lines = ((line.Comb (((pos 1), 0) ∷ ((pos 1), 7) ∷ [])) ∷ []) }) ∷ (record { lines = ((line.Comb (((pos 1), 1) ∷ ((pos 1), 7) ∷ [])) ∷ []) }) ∷ [])) s.NoBlock (s.Then 17 (s.Rewrite false 2 (occurrence.Item 2)) s.NoBlock (s.Then 18 (s.Share 3 (Number (pos 1)) ([])) s.NoBlock (s.Then 19 (s.Unshare 4 3 ([])) s.NoBlock (s.Then 20 (s.Fall ((Of2 binary.Add (Named name_k1) (Number (pos 1))) ∷ (Of3 ternary.Upd (Named name_k2) (Named name_k1) (Of unary.Vi (Number (pos 7)))) ∷ []) ((record { lines = ((line.Comb (((pos 1), 0) ∷ ((pos 1), 7) ∷ [])) ∷ []) }) ∷ (record { lines = ((line.Comb (((pos 1), 5) ∷ ((pos 1), 2) ∷ ((pos 1), 7) ∷ [])) ∷ []) }) ∷ (record { lines = ((line.Comb (((pos 1), 6) ∷ ((pos 1), 3) ∷ ((pos 1), 7) ∷ [])) ∷ []) }) ∷ [])) s.NoBlock s.End))))))))) (s.WithBlock (s.Then 21 (s.Break ((Named name_k1) ∷ (Named name_k2) ∷ []) ([])) s.NoBlock s.End) s.NoBlock)) s.End)) s.NoBlock)) (s.Then 22 (s.Set ([]) ([])) s.NoBlock (s.Then 23 (s.Load 1 ([]) ((record { lines = ((line.Comb (((pos 1), 3) ∷ ((pos 1), 5) ∷ [])) ∷ []) }) ∷ [])) s.NoBlock (s.Then 24 (s.Load 1 ([]) ((record { lines = ((line.Comb (((pos 1), 3) ∷ ((pos 1), 5) ∷ [])) ∷ []) }) ∷ [])) s.NoBlock (s.Then 25 (s.Set ([]) ([])) s.NoBlock (s.Then 26 (s.Return ((Of2 binary.Cons (Of unary.Vi (Number (pos 3))) Nil) ∷ (Named name_k4) ∷ []) ([]) ([])) s.NoBlock s.End))))))))))))) ≡ (RefusedAt 14 4 3)
unfolding computing
random_473 = refl

random_474 : body_verdict (record { predicates = ([]); specs = ((record { is_void = false; name = name_main; params = ([]); vars = []; pre = (record { opened = []; facts = ([]); locals = []; items = ((Data (Number (pos 64)) (Global name_g) (Of2 binary.Cons (Of unary.Vi (Number (pos 3))) Nil)) ∷ (Data (Number (pos 64)) (Global name_arr) (Of2 binary.Cons (Of unary.Vi (Number (pos 1))) (Of2 binary.Cons (Of unary.Vi (Number (pos 2))) (Of2 binary.Cons (Of unary.Vi (Number (pos 0))) (Of2 binary.Cons (Of unary.Vi (Number (pos 0))) Nil))))) ∷ (Data (Number (pos 64)) (Global name_x) (Of2 binary.Cons (Of unary.Vi (Number (pos 3))) Nil)) ∷ []) }); post = (record { opened = (sort.List ∷ sort.List ∷ []); facts = ([]); locals = []; items = ((Data (Number (pos 64)) (Global name_g) (Var 1 sort.List)) ∷ (Data (Number (pos 64)) (Global name_arr) (Var 2 sort.List)) ∷ (Data (Number (pos 16)) (Global name_x) (Var 1 sort.List)) ∷ (Data (Number (pos 48)) (Global name_x) (Var 1 sort.List)) ∷ []) }) }) ∷ []) }) (record { is_void = false; name = name_main; params = ([]); vars = []; pre = (record { opened = []; facts = ([]); locals = []; items = ((Data (Number (pos 64)) (Global name_g) (Of2 binary.Cons (Of unary.Vi (Number (pos 3))) Nil)) ∷ (Data (Number (pos 64)) (Global name_arr) (Of2 binary.Cons (Of unary.Vi (Number (pos 1))) (Of2 binary.Cons (Of unary.Vi (Number (pos 2))) (Of2 binary.Cons (Of unary.Vi (Number (pos 0))) (Of2 binary.Cons (Of unary.Vi (Number (pos 0))) Nil))))) ∷ (Data (Number (pos 64)) (Global name_x) (Of2 binary.Cons (Of unary.Vi (Number (pos 3))) Nil)) ∷ []) }); post = (record { opened = (sort.List ∷ sort.List ∷ []); facts = ([]); locals = []; items = ((Data (Number (pos 64)) (Global name_g) (Var 1 sort.List)) ∷ (Data (Number (pos 64)) (Global name_arr) (Var 2 sort.List)) ∷ (Data (Number (pos 16)) (Global name_x) (Var 1 sort.List)) ∷ (Data (Number (pos 48)) (Global name_x) (Var 1 sort.List)) ∷ []) }) }) (record { temps = (name_s ∷ name_t ∷ name_i ∷ name_x1 ∷ name_d0 ∷ name_p1 ∷ name_q1 ∷ []); body = (c.Then (c.Set 0 (c.Const 3)) (c.Then (c.Set 1 (c.Const 0)) (c.Then (c.Set 3 (c.Binary two.Shl kind.Unsigned (c.Const 1) (c.Const 4))) (c.Then (c.Set 2 (c.Const 0)) (c.Then (c.Loop (c.Then (c.If (c.Nonzero kind.Signed (c.Binary two.Lt kind.Signed (c.Temp 2) (c.Const 4))) (c.Then (c.Store (root.Global name_arr 4) (c.Index kind.Signed (c.Temp 2) c.Here) (c.Const 7)) (c.Then (c.Set 2 (c.Binary two.Add kind.Signed (c.Temp 2) (c.Const 1))) c.End)) (c.Then c.Break c.End)) c.End)) (c.Then (c.Set 3 (c.Unary one.Invert kind.Unsigned (c.Const 0))) (c.Then (c.Load 1 (root.Global name_arr 4) (c.Index kind.Signed (c.Const 3) c.Here)) (c.Then (c.Load 0 (root.Global name_arr 4) (c.Index kind.Signed (c.Const 1) c.Here)) (c.Then (c.Set 4 (c.Binary two.Add kind.Signed (c.Const 1) (c.Const 3))) (c.Then (c.Return (Some (c.Const 0))) c.End)))))))))) }) (s.Then 1 (s.Share 2 (Number (pos 16)) ([])) s.NoBlock (s.Then 2 (s.Set ([]) ([])) s.NoBlock (s.Then 3 (s.Set ([]) ([])) s.NoBlock (s.Then 4 (s.Apart 0 2 ([])) s.NoBlock (s.Then 5 (s.Set ([]) ([])) s.NoBlock (s.Then 6 (s.Set ([]) ([])) s.NoBlock (s.Then 7 (s.Forget (forgotten.Prop 0)) s.NoBlock (s.Then 8 (s.While (record { opened = (sort.Int ∷ sort.List ∷ []); facts = ((Rel relation.Le (Number (pos 0)) (Var 0 sort.Int)) ∷ (Rel relation.Le (Var 0 sort.Int) (Number (pos 4))) ∷ (Rel relation.Eq (Of unary.Len (Var 1 sort.List)) (Number (pos 4))) ∷ []); locals = ((name_s, (Of unary.Vi (Number (pos 3)))) ∷ (name_t, (Of unary.Vi (Number (pos 0)))) ∷ (name_i, (Of unary.Vi (Var 0 sort.Int))) ∷ (name_x1, (Of unary.Vi (Number (pos 16)))) ∷ []); items = ((Data (Number (pos 64)) (Global name_g) (Of2 binary.Cons (Of unary.Vi (Number (pos 3))) Nil)) ∷ (Data (Number (pos 64)) (Global name_arr) (Var 1 sort.List)) ∷ (Data (Number (pos 16)) (Global name_x) (Of2 binary.Cons (Of unary.Vi (Number (pos 3))) Nil)) ∷ (Data (Number (pos 48)) (Global name_x) (Of2 binary.Cons (Of unary.Vi (Number (pos 3))) Nil)) ∷ []) }) (record { opened = (sort.Int ∷ sort.List ∷ []); facts = ((Rel relation.Le (Number (pos 0)) (Var 0 sort.Int)) ∷ (Rel relation.Le (Var 0 sort.Int) (Number (pos 4))) ∷ (Rel relation.Eq (Of unary.Len (Var 1 sort.List)) (Number (pos 4))) ∷ (Rel relation.Le (Number (pos 4)) (Var 0 sort.Int)) ∷ []); locals = ((name_s, (Of unary.Vi (Number (pos 3)))) ∷ (name_t, (Of unary.Vi (Number (pos 0)))) ∷ (name_i, (Of unary.Vi (Var 0 sort.Int))) ∷ (name_x1, (Of unary.Vi (Number (pos 16)))) ∷ []); items = ((Data (Number (pos 64)) (Global name_g) (Of2 binary.Cons (Of unary.Vi (Number (pos 3))) Nil)) ∷ (Data (Number (pos 64)) (Global name_arr) (Var 1 sort.List)) ∷ (Data (Number (pos 16)) (Global name_x) (Of2 binary.Cons (Of unary.Vi (Number (pos 3))) Nil)) ∷ (Data (Number (pos 48)) (Global name_x) (Of2 binary.Cons (Of unary.Vi (Number (pos 3))) Nil)) ∷ []) }) (name_k3 ∷ name_k4 ∷ []) ([]) (name_k1 ∷ name_k2 ∷ [])) (s.WithBlock (s.Then 9 (s.Meet ((Number (pos 0)) ∷ (Of2 binary.Cons (Of unary.Vi (Number (pos 1))) (Of2 binary.Cons (Of unary.Vi (Number (pos 2))) (Of2 binary.Cons (Of unary.Vi (Number (pos 0))) (Of2 binary.Cons (Of unary.Vi (Number (pos 0))) Nil)))) ∷ []) ([])) s.NoBlock s.End) (s.WithBlock (s.Then 10 (s.Have (IsInt (Of unary.Vi (Number (pos 3)))) ([])) s.NoBlock (s.Then 11 (s.If ([]) ((record { lines = ((line.Comb (((pos 1), 0) ∷ ((pos 1), 4) ∷ [])) ∷ []) }) ∷ (record { lines = ((line.Comb (((pos 1), 0) ∷ ((pos 1), 4) ∷ [])) ∷ []) }) ∷ (record { lines = ((line.Comb (((pos 1), 1) ∷ ((pos 1), 4) ∷ [])) ∷ []) }) ∷ []) ([]) ([])) (s.WithBlock (s.Then 12 (s.Share 3 (Number (pos 16)) ([])) s.NoBlock (s.Then 13 (s.Unshare 3 4 ([])) s.NoBlock (s.Then 14 (s.Store 1 ([]) ((record { lines = ((line.Comb (((pos 1), 0) ∷ ((pos 1), 5) ∷ [])) ∷ []) }) ∷ (record { lines = ((line.Comb (((pos 1), 1) ∷ ((pos 1), 5) ∷ [])) ∷ []) }) ∷ (record { lines = ((line.Comb (((pos 1), 3) ∷ ((pos 1), 4) ∷ ((pos 1), 5) ∷ [])) ∷ []) }) ∷ [])) s.NoBlock (s.Then 15 (s.Law name_len_upd ((Named name_k2) ∷ (Named name_k1) ∷ (Of unary.Vi (Number (pos 7))) ∷ []) ([])) s.NoBlock (s.Then 16 (s.Set ([]) ((record { lines = ((line.Comb (((pos 1), 0) ∷ ((pos 1), 7) ∷ [])) ∷ []) }) ∷ (record { lines = ((line.Comb (((pos 1), 1) ∷ ((pos 1), 7) ∷ [])) ∷ []) }) ∷ (record { lines = ((line.Comb (((pos 1), 0) ∷ ((pos 1), 7) ∷ [])) ∷ []) }) ∷ (record { lines = ((line.Comb (((pos 1), 1) ∷ ((pos 1), 7) ∷ [])) ∷ []) }) ∷ [])) s.NoBlock (s.Then 17 (s.Rewrite false 2 (occurrence.Item 2)) s.NoBlock (s.Then 18 (s.Share 3 (Number (pos 1)) ([])) s.NoBlock (s.Then 19 (s.Unshare 4 3 ([])) s.NoBlock (s.Then 20 (s.Fall ((Of2 binary.Add (Named name_k1) (Number (pos 1))) ∷ (Of3 ternary.Upd (Named name_k2) (Named name_k1) (Of unary.Vi (Number (pos 7)))) ∷ []) ((record { lines = ((line.Comb (((pos 1), 0) ∷ ((pos 1), 7) ∷ [])) ∷ []) }) ∷ (record { lines = ((line.Comb (((pos 1), 5) ∷ ((pos 1), 2) ∷ ((pos 1), 7) ∷ [])) ∷ []) }) ∷ (record { lines = ((line.Comb (((pos 1), 6) ∷ ((pos 1), 3) ∷ ((pos 1), 7) ∷ [])) ∷ []) }) ∷ [])) s.NoBlock s.End))))))))) (s.WithBlock (s.Then 21 (s.Break ((Named name_k1) ∷ (Named name_k2) ∷ []) ([])) s.NoBlock s.End) s.NoBlock)) s.End)) s.NoBlock)) (s.Then 22 (s.Set ([]) ([])) s.NoBlock (s.Then 23 (s.Load 1 ([]) ((record { lines = ((line.Comb (((pos 1), 3) ∷ ((pos 1), 5) ∷ [])) ∷ []) }) ∷ [])) s.NoBlock (s.Then 24 (s.Load 1 ([]) ((record { lines = ((line.Comb (((pos 1), 3) ∷ ((pos 1), 5) ∷ [])) ∷ []) }) ∷ [])) s.NoBlock (s.Then 25 (s.Set ([]) ([])) s.NoBlock (s.Then 26 (s.Return ((Of2 binary.Cons (Of unary.Vi (Number (pos 3))) Nil) ∷ (Named name_k4) ∷ []) ([]) ([])) s.NoBlock s.End))))))))))))) ≡ (RefusedAt 11 5 3)
unfolding computing
random_474 = refl

random_475 : body_verdict (record { predicates = ([]); specs = ((record { is_void = false; name = name_main; params = ([]); vars = []; pre = (record { opened = []; facts = ([]); locals = []; items = ((Data (Number (pos 64)) (Global name_g) (Of2 binary.Cons (Of unary.Vi (Number (pos 3))) Nil)) ∷ (Data (Number (pos 64)) (Global name_arr) (Of2 binary.Cons (Of unary.Vi (Number (pos 1))) (Of2 binary.Cons (Of unary.Vi (Number (pos 2))) (Of2 binary.Cons (Of unary.Vi (Number (pos 0))) (Of2 binary.Cons (Of unary.Vi (Number (pos 0))) Nil))))) ∷ (Data (Number (pos 64)) (Global name_x) (Of2 binary.Cons (Of unary.Vi (Number (pos 3))) Nil)) ∷ []) }); post = (record { opened = (sort.List ∷ sort.List ∷ []); facts = ([]); locals = []; items = ((Data (Number (pos 64)) (Global name_g) (Var 1 sort.List)) ∷ (Data (Number (pos 64)) (Global name_arr) (Var 2 sort.List)) ∷ (Data (Number (pos 16)) (Global name_x) (Var 1 sort.List)) ∷ (Data (Number (pos 48)) (Global name_x) (Var 1 sort.List)) ∷ []) }) }) ∷ []) }) (record { is_void = false; name = name_main; params = ([]); vars = []; pre = (record { opened = []; facts = ([]); locals = []; items = ((Data (Number (pos 64)) (Global name_g) (Of2 binary.Cons (Of unary.Vi (Number (pos 3))) Nil)) ∷ (Data (Number (pos 64)) (Global name_arr) (Of2 binary.Cons (Of unary.Vi (Number (pos 1))) (Of2 binary.Cons (Of unary.Vi (Number (pos 2))) (Of2 binary.Cons (Of unary.Vi (Number (pos 0))) (Of2 binary.Cons (Of unary.Vi (Number (pos 0))) Nil))))) ∷ (Data (Number (pos 64)) (Global name_x) (Of2 binary.Cons (Of unary.Vi (Number (pos 3))) Nil)) ∷ []) }); post = (record { opened = (sort.List ∷ sort.List ∷ []); facts = ([]); locals = []; items = ((Data (Number (pos 64)) (Global name_g) (Var 1 sort.List)) ∷ (Data (Number (pos 64)) (Global name_arr) (Var 2 sort.List)) ∷ (Data (Number (pos 16)) (Global name_x) (Var 1 sort.List)) ∷ (Data (Number (pos 48)) (Global name_x) (Var 1 sort.List)) ∷ []) }) }) (record { temps = (name_s ∷ name_t ∷ name_i ∷ name_x1 ∷ name_d0 ∷ name_p1 ∷ name_q1 ∷ []); body = (c.Then (c.Set 0 (c.Const 3)) (c.Then (c.Set 1 (c.Const 0)) (c.Then (c.Set 3 (c.Binary two.Shl kind.Unsigned (c.Const 1) (c.Const 4))) (c.Then (c.Set 2 (c.Const 0)) (c.Then (c.Loop (c.Then (c.If (c.Nonzero kind.Signed (c.Binary two.Lt kind.Signed (c.Temp 2) (c.Const 4))) (c.Then (c.Store (root.Global name_arr 4) (c.Index kind.Signed (c.Temp 2) c.Here) (c.Const 7)) (c.Then (c.Set 2 (c.Binary two.Add kind.Signed (c.Temp 2) (c.Const 1))) c.End)) (c.Then c.Break c.End)) c.End)) (c.Then (c.Set 3 (c.Unary one.Invert kind.Unsigned (c.Const 0))) (c.Then (c.Load 1 (root.Global name_arr 4) (c.Index kind.Signed (c.Const 3) c.Here)) (c.Then (c.Load 0 (root.Global name_arr 4) (c.Index kind.Signed (c.Const 1) c.Here)) (c.Then (c.Set 4 (c.Binary two.Add kind.Signed (c.Const 1) (c.Const 3))) (c.Then (c.Return (Some (c.Const 0))) c.End)))))))))) }) (s.Then 1 (s.Share 2 (Number (pos 16)) ([])) s.NoBlock (s.Then 2 (s.Set ([]) ([])) s.NoBlock (s.Then 3 (s.Set ([]) ([])) s.NoBlock (s.Then 4 (s.Apart 0 2 ([])) s.NoBlock (s.Then 5 (s.Set ([]) ([])) s.NoBlock (s.Then 6 (s.Set ([]) ([])) s.NoBlock (s.Then 7 (s.Forget (forgotten.Prop 0)) s.NoBlock (s.Then 8 (s.While (record { opened = (sort.Int ∷ sort.List ∷ []); facts = ((Rel relation.Le (Number (pos 0)) (Var 0 sort.Int)) ∷ (Rel relation.Le (Var 0 sort.Int) (Number (pos 4))) ∷ (Rel relation.Eq (Of unary.Len (Var 1 sort.List)) (Number (pos 4))) ∷ []); locals = ((name_s, (Of unary.Vi (Number (pos 3)))) ∷ (name_t, (Of unary.Vi (Number (pos 0)))) ∷ (name_i, (Of unary.Vi (Var 0 sort.Int))) ∷ (name_x1, (Of unary.Vi (Number (pos 16)))) ∷ []); items = ((Data (Number (pos 64)) (Global name_g) (Of2 binary.Cons (Of unary.Vi (Number (pos 3))) Nil)) ∷ (Data (Number (pos 64)) (Global name_arr) (Var 1 sort.List)) ∷ (Data (Number (pos 16)) (Global name_x) (Of2 binary.Cons (Of unary.Vi (Number (pos 3))) Nil)) ∷ (Data (Number (pos 48)) (Global name_x) (Of2 binary.Cons (Of unary.Vi (Number (pos 3))) Nil)) ∷ []) }) (record { opened = (sort.Int ∷ sort.List ∷ []); facts = ((Rel relation.Le (Number (pos 0)) (Var 0 sort.Int)) ∷ (Rel relation.Le (Var 0 sort.Int) (Number (pos 4))) ∷ (Rel relation.Eq (Of unary.Len (Var 1 sort.List)) (Number (pos 4))) ∷ (Rel relation.Le (Number (pos 4)) (Var 0 sort.Int)) ∷ []); locals = ((name_s, (Of unary.Vi (Number (pos 3)))) ∷ (name_t, (Of unary.Vi (Number (pos 0)))) ∷ (name_i, (Of unary.Vi (Var 0 sort.Int))) ∷ (name_x1, (Of unary.Vi (Number (pos 16)))) ∷ []); items = ((Data (Number (pos 64)) (Global name_g) (Of2 binary.Cons (Of unary.Vi (Number (pos 3))) Nil)) ∷ (Data (Number (pos 64)) (Global name_arr) (Var 1 sort.List)) ∷ (Data (Number (pos 16)) (Global name_x) (Of2 binary.Cons (Of unary.Vi (Number (pos 3))) Nil)) ∷ (Data (Number (pos 48)) (Global name_x) (Of2 binary.Cons (Of unary.Vi (Number (pos 3))) Nil)) ∷ []) }) (name_k3 ∷ name_k4 ∷ []) ([]) (name_k1 ∷ name_k2 ∷ [])) (s.WithBlock (s.Then 9 (s.Meet ((Number (pos 0)) ∷ (Of2 binary.Cons (Of unary.Vi (Number (pos 1))) (Of2 binary.Cons (Of unary.Vi (Number (pos 2))) (Of2 binary.Cons (Of unary.Vi (Number (pos 0))) (Of2 binary.Cons (Of unary.Vi (Number (pos 0))) Nil)))) ∷ []) ([])) s.NoBlock s.End) (s.WithBlock (s.Then 10 (s.Have (IsInt (Of unary.Vi (Number (pos 3)))) ([])) s.NoBlock (s.Then 11 (s.If ([]) ((record { lines = ((line.Comb (((pos 1), 0) ∷ ((pos 1), 4) ∷ [])) ∷ []) }) ∷ (record { lines = ((line.Comb (((pos 1), 1) ∷ ((pos 1), 4) ∷ [])) ∷ []) }) ∷ []) ([]) ([])) (s.WithBlock (s.Then 12 (s.Share 3 (Number (pos 16)) ([])) s.NoBlock (s.Then 13 (s.Break ((Named name_k1) ∷ (Named name_k2) ∷ []) ([])) s.NoBlock (s.Then 14 (s.Unshare 3 4 ([])) s.NoBlock (s.Then 15 (s.Store 1 ([]) ((record { lines = ((line.Comb (((pos 1), 0) ∷ ((pos 1), 5) ∷ [])) ∷ []) }) ∷ (record { lines = ((line.Comb (((pos 1), 1) ∷ ((pos 1), 5) ∷ [])) ∷ []) }) ∷ (record { lines = ((line.Comb (((pos 1), 3) ∷ ((pos 1), 4) ∷ ((pos 1), 5) ∷ [])) ∷ []) }) ∷ [])) s.NoBlock (s.Then 16 (s.Law name_len_upd ((Named name_k2) ∷ (Named name_k1) ∷ (Of unary.Vi (Number (pos 7))) ∷ []) ([])) s.NoBlock (s.Then 17 (s.Set ([]) ((record { lines = ((line.Comb (((pos 1), 0) ∷ ((pos 1), 7) ∷ [])) ∷ []) }) ∷ (record { lines = ((line.Comb (((pos 1), 1) ∷ ((pos 1), 7) ∷ [])) ∷ []) }) ∷ (record { lines = ((line.Comb (((pos 1), 0) ∷ ((pos 1), 7) ∷ [])) ∷ []) }) ∷ (record { lines = ((line.Comb (((pos 1), 1) ∷ ((pos 1), 7) ∷ [])) ∷ []) }) ∷ [])) s.NoBlock (s.Then 18 (s.Rewrite false 2 (occurrence.Item 2)) s.NoBlock (s.Then 19 (s.Share 3 (Number (pos 1)) ([])) s.NoBlock (s.Then 20 (s.Unshare 4 3 ([])) s.NoBlock (s.Then 21 (s.Fall ((Of2 binary.Add (Named name_k1) (Number (pos 1))) ∷ (Of3 ternary.Upd (Named name_k2) (Named name_k1) (Of unary.Vi (Number (pos 7)))) ∷ []) ((record { lines = ((line.Comb (((pos 1), 0) ∷ ((pos 1), 7) ∷ [])) ∷ []) }) ∷ (record { lines = ((line.Comb (((pos 1), 5) ∷ ((pos 1), 2) ∷ ((pos 1), 7) ∷ [])) ∷ []) }) ∷ (record { lines = ((line.Comb (((pos 1), 6) ∷ ((pos 1), 3) ∷ ((pos 1), 7) ∷ [])) ∷ []) }) ∷ [])) s.NoBlock s.End)))))))))) (s.WithBlock (s.Then 22 (s.Break ((Named name_k1) ∷ (Named name_k2) ∷ []) ([])) s.NoBlock s.End) s.NoBlock)) s.End)) s.NoBlock)) (s.Then 23 (s.Set ([]) ([])) s.NoBlock (s.Then 24 (s.Load 1 ([]) ((record { lines = ((line.Comb (((pos 1), 3) ∷ ((pos 1), 5) ∷ [])) ∷ []) }) ∷ [])) s.NoBlock (s.Then 25 (s.Load 1 ([]) ((record { lines = ((line.Comb (((pos 1), 3) ∷ ((pos 1), 5) ∷ [])) ∷ []) }) ∷ [])) s.NoBlock (s.Then 26 (s.Set ([]) ([])) s.NoBlock (s.Then 27 (s.Return ((Of2 binary.Cons (Of unary.Vi (Number (pos 3))) Nil) ∷ (Named name_k4) ∷ []) ([]) ([])) s.NoBlock s.End))))))))))))) ≡ (RefusedAt 13 7 1)
unfolding computing
random_475 = refl

random_476 : body_verdict (record { predicates = ([]); specs = ((record { is_void = true; name = name_put; params = (name_p ∷ name_k ∷ []); vars = ((name_v, sort.Val) ∷ (name_w, sort.Val) ∷ (name_o, sort.Val) ∷ []); pre = (record { opened = []; facts = ([]); locals = ((name_p, (Var 0 sort.Val)) ∷ (name_k, (Var 1 sort.Val)) ∷ []); items = ((Data (Number (pos 64)) (Var 0 sort.Val) (Of2 binary.Cons (Var 2 sort.Val) Nil)) ∷ []) }); post = (record { opened = []; facts = ([]); locals = []; items = ((Data (Number (pos 64)) (Var 0 sort.Val) (Of2 binary.Cons (Var 1 sort.Val) Nil)) ∷ []) }) }) ∷ (record { is_void = false; name = name_main; params = ([]); vars = []; pre = (record { opened = []; facts = ([]); locals = []; items = ((Data (Number (pos 64)) (Global name_x) (Of2 binary.Cons (Of unary.Vi (Number (pos 3))) Nil)) ∷ (Data (Number (pos 64)) (Global name_arr) (Of2 binary.Cons (Of unary.Vi (Number (pos 1))) (Of2 binary.Cons (Of unary.Vi (Number (pos 2))) (Of2 binary.Cons (Of unary.Vi (Number (pos 0))) (Of2 binary.Cons (Of unary.Vi (Number (pos 0))) Nil))))) ∷ (Data (Number (pos 64)) (Global name_g) (Of2 binary.Cons (Of unary.Vi (Number (pos 3))) Nil)) ∷ []) }); post = (record { opened = (sort.List ∷ sort.List ∷ sort.List ∷ []); facts = ((IsInt (Var 0 sort.Val)) ∷ []); locals = []; items = ((Data (Number (pos 64)) (Global name_x) (Var 1 sort.List)) ∷ (Data (Number (pos 64)) (Global name_arr) (Var 2 sort.List)) ∷ (Data (Number (pos 64)) (Global name_g) (Var 3 sort.List)) ∷ []) }) }) ∷ []) }) (record { is_void = false; name = name_main; params = ([]); vars = []; pre = (record { opened = []; facts = ([]); locals = []; items = ((Data (Number (pos 64)) (Global name_x) (Of2 binary.Cons (Of unary.Vi (Number (pos 3))) Nil)) ∷ (Data (Number (pos 64)) (Global name_arr) (Of2 binary.Cons (Of unary.Vi (Number (pos 1))) (Of2 binary.Cons (Of unary.Vi (Number (pos 2))) (Of2 binary.Cons (Of unary.Vi (Number (pos 0))) (Of2 binary.Cons (Of unary.Vi (Number (pos 0))) Nil))))) ∷ (Data (Number (pos 64)) (Global name_g) (Of2 binary.Cons (Of unary.Vi (Number (pos 3))) Nil)) ∷ []) }); post = (record { opened = (sort.List ∷ sort.List ∷ sort.List ∷ []); facts = ((IsInt (Var 0 sort.Val)) ∷ []); locals = []; items = ((Data (Number (pos 64)) (Global name_x) (Var 1 sort.List)) ∷ (Data (Number (pos 64)) (Global name_arr) (Var 2 sort.List)) ∷ (Data (Number (pos 64)) (Global name_g) (Var 3 sort.List)) ∷ []) }) }) (record { temps = (name_s ∷ name_t ∷ name_i ∷ name_x1 ∷ name_d0 ∷ name_p1 ∷ name_q1 ∷ []); body = (c.Then (c.Set 0 (c.Const 3)) (c.Then (c.Set 1 (c.Const 1)) (c.Then (c.Store (root.Global name_x 1) c.Here (c.Binary two.Add kind.Signed (c.Temp 0) (c.Const 1))) (c.Then (c.Malloc 5 3) (c.Then (c.If (c.Pointers (c.Temp 5) (c.Const 0) true) (c.Then (c.Return (Some (c.Const 0))) c.End) c.End) (c.Then (c.Store (root.Temp 5) (c.Offset 0 c.Here) (c.Temp 0)) (c.Then (c.Load 1 (root.Temp 5) (c.Offset 0 c.Here)) (c.Then (c.Free (c.Temp 5)) (c.Then (c.Set 0 (c.Binary two.Add kind.Signed (c.Temp 0) (c.Const 1))) (c.Then (c.Store (root.Global name_x 1) c.Here (c.Temp 1)) (c.Then (c.Call None name_put ((c.Address (root.Global name_x 1) c.Here) ∷ (c.Const 2) ∷ [])) (c.Then (c.If (c.Nonzero kind.Signed (c.Binary two.Lt kind.Signed (c.Const 1) (c.Const 0))) (c.Then (c.Load 1 (root.Global name_g 1) c.Here) c.End) c.End) (c.Then (c.Return (Some (c.Binary two.Add kind.Signed (c.Const 2) (c.Const 2)))) c.End))))))))))))) }) (s.Then 1 (s.Set ([]) ([])) s.NoBlock (s.Then 2 (s.Set ([]) ([])) s.NoBlock (s.Then 3 (s.Bounds 1 None ([])) s.NoBlock (s.Then 4 (s.Store 0 ([]) ([])) s.NoBlock (s.Then 5 (s.Malloc name_k1 ([]) ([])) (s.WithBlock (s.Then 6 (s.If ([]) ([]) ([]) ([])) (s.WithBlock (s.Then 7 (s.Return ((Of2 binary.Cons (Of unary.Vi (Number (pos 4))) Nil) ∷ (Of2 binary.Cons (Of unary.Vi (Number (pos 1))) (Of2 binary.Cons (Of unary.Vi (Number (pos 2))) (Of2 binary.Cons (Of unary.Vi (Number (pos 0))) (Of2 binary.Cons (Of unary.Vi (Number (pos 0))) Nil)))) ∷ (Of2 binary.Cons (Of unary.Vi (Number (pos 3))) Nil) ∷ []) ([]) ([])) s.NoBlock s.End) (s.WithBlock (s.Then 8 (s.Absurd ([])) s.NoBlock s.End) s.NoBlock)) s.End) (s.WithBlock (s.Then 9 (s.If (3 ∷ []) ([]) ([]) ([])) (s.WithBlock (s.Then 10 (s.Subst name_k1) s.NoBlock (s.Then 11 (s.Absurd ([])) s.NoBlock s.End)) (s.WithBlock (s.Then 12 (s.Store 3 ([]) ([])) s.NoBlock (s.Then 13 (s.Load 3 ([]) ([])) s.NoBlock (s.Then 14 (s.Free 3 4 ([])) s.NoBlock (s.Then 15 (s.Set ([]) ([])) s.NoBlock (s.Then 16 (s.Store 0 ([]) ([])) s.NoBlock (s.Then 17 (s.Call ((Global name_x) ∷ (Of unary.Vi (Number (pos 2))) ∷ (Of unary.Vi (Number (pos 3))) ∷ []) ([]) ([]) ([])) s.NoBlock (s.Then 18 (s.If ([]) ([]) ([]) ([])) (s.WithBlock (s.Then 19 (s.Absurd ([])) s.NoBlock s.End) (s.WithBlock (s.Then 20 (s.Return ((Of2 binary.Cons (Of unary.Vi (Number (pos 2))) Nil) ∷ (Of2 binary.Cons (Of unary.Vi (Number (pos 1))) (Of2 binary.Cons (Of unary.Vi (Number (pos 2))) (Of2 binary.Cons (Of unary.Vi (Number (pos 0))) (Of2 binary.Cons (Of unary.Vi (Number (pos 0))) Nil)))) ∷ (Of2 binary.Cons (Of unary.Vi (Number (pos 3))) Nil) ∷ []) ([]) ([])) s.NoBlock s.End) s.NoBlock)) s.End))))))) s.NoBlock)) s.End) s.NoBlock)) s.End))))) ≡ Accepted
unfolding computing
random_476 = refl

random_477 : body_verdict (record { predicates = ([]); specs = ((record { is_void = true; name = name_put; params = (name_p ∷ name_k ∷ []); vars = ((name_v, sort.Val) ∷ (name_w, sort.Val) ∷ (name_o, sort.Val) ∷ []); pre = (record { opened = []; facts = ([]); locals = ((name_p, (Var 0 sort.Val)) ∷ (name_k, (Var 1 sort.Val)) ∷ []); items = ((Data (Number (pos 64)) (Var 0 sort.Val) (Of2 binary.Cons (Var 2 sort.Val) Nil)) ∷ []) }); post = (record { opened = []; facts = ([]); locals = []; items = ((Data (Number (pos 64)) (Var 0 sort.Val) (Of2 binary.Cons (Var 1 sort.Val) Nil)) ∷ []) }) }) ∷ (record { is_void = false; name = name_main; params = ([]); vars = []; pre = (record { opened = []; facts = ([]); locals = []; items = ((Data (Number (pos 64)) (Global name_x) (Of2 binary.Cons (Of unary.Vi (Number (pos 3))) Nil)) ∷ (Data (Number (pos 64)) (Global name_arr) (Of2 binary.Cons (Of unary.Vi (Number (pos 1))) (Of2 binary.Cons (Of unary.Vi (Number (pos 2))) (Of2 binary.Cons (Of unary.Vi (Number (pos 0))) (Of2 binary.Cons (Of unary.Vi (Number (pos 0))) Nil))))) ∷ (Data (Number (pos 64)) (Global name_g) (Of2 binary.Cons (Of unary.Vi (Number (pos 3))) Nil)) ∷ []) }); post = (record { opened = (sort.List ∷ sort.List ∷ sort.List ∷ []); facts = ((IsInt (Var 0 sort.Val)) ∷ []); locals = []; items = ((Data (Number (pos 64)) (Global name_x) (Var 1 sort.List)) ∷ (Data (Number (pos 64)) (Global name_arr) (Var 2 sort.List)) ∷ (Data (Number (pos 64)) (Global name_g) (Var 3 sort.List)) ∷ []) }) }) ∷ []) }) (record { is_void = true; name = name_put; params = (name_p ∷ name_k ∷ []); vars = ((name_v, sort.Val) ∷ (name_w, sort.Val) ∷ (name_o, sort.Val) ∷ []); pre = (record { opened = []; facts = ([]); locals = ((name_p, (Var 0 sort.Val)) ∷ (name_k, (Var 1 sort.Val)) ∷ []); items = ((Data (Number (pos 64)) (Var 0 sort.Val) (Of2 binary.Cons (Var 2 sort.Val) Nil)) ∷ []) }); post = (record { opened = []; facts = ([]); locals = []; items = ((Data (Number (pos 64)) (Var 0 sort.Val) (Of2 binary.Cons (Var 1 sort.Val) Nil)) ∷ []) }) }) (record { temps = (name_p ∷ name_k ∷ []); body = (c.Then (c.Store (root.Temp 0) c.Here (c.Temp 1)) (c.Then (c.Return None) c.End)) }) (s.Then 1 (s.Store 0 ([]) ([])) s.NoBlock (s.Then 2 (s.Return ([]) ([]) ([])) s.NoBlock s.End)) ≡ Accepted
unfolding computing
random_477 = refl

random_478 : body_verdict (record { predicates = ([]); specs = ((record { is_void = true; name = name_put; params = (name_p ∷ name_k ∷ []); vars = ((name_v, sort.Val) ∷ (name_w, sort.Val) ∷ (name_o, sort.Val) ∷ []); pre = (record { opened = []; facts = ([]); locals = ((name_p, (Var 0 sort.Val)) ∷ (name_k, (Var 1 sort.Val)) ∷ []); items = ((Data (Number (pos 64)) (Var 0 sort.Val) (Of2 binary.Cons (Var 2 sort.Val) Nil)) ∷ []) }); post = (record { opened = []; facts = ([]); locals = []; items = ((Data (Number (pos 64)) (Var 0 sort.Val) (Of2 binary.Cons (Var 1 sort.Val) Nil)) ∷ []) }) }) ∷ (record { is_void = false; name = name_main; params = ([]); vars = []; pre = (record { opened = []; facts = ([]); locals = []; items = ((Data (Number (pos 64)) (Global name_x) (Of2 binary.Cons (Of unary.Vi (Number (pos 3))) Nil)) ∷ (Data (Number (pos 64)) (Global name_arr) (Of2 binary.Cons (Of unary.Vi (Number (pos 1))) (Of2 binary.Cons (Of unary.Vi (Number (pos 2))) (Of2 binary.Cons (Of unary.Vi (Number (pos 0))) (Of2 binary.Cons (Of unary.Vi (Number (pos 0))) Nil))))) ∷ (Data (Number (pos 64)) (Global name_g) (Of2 binary.Cons (Of unary.Vi (Number (pos 3))) Nil)) ∷ []) }); post = (record { opened = (sort.List ∷ sort.List ∷ sort.List ∷ []); facts = ((IsInt (Var 0 sort.Val)) ∷ []); locals = []; items = ((Data (Number (pos 64)) (Global name_x) (Var 1 sort.List)) ∷ (Data (Number (pos 64)) (Global name_arr) (Var 2 sort.List)) ∷ (Data (Number (pos 64)) (Global name_g) (Var 3 sort.List)) ∷ []) }) }) ∷ []) }) (record { is_void = false; name = name_main; params = ([]); vars = []; pre = (record { opened = []; facts = ([]); locals = []; items = ((Data (Number (pos 64)) (Global name_x) (Of2 binary.Cons (Of unary.Vi (Number (pos 3))) Nil)) ∷ (Data (Number (pos 64)) (Global name_arr) (Of2 binary.Cons (Of unary.Vi (Number (pos 1))) (Of2 binary.Cons (Of unary.Vi (Number (pos 2))) (Of2 binary.Cons (Of unary.Vi (Number (pos 0))) (Of2 binary.Cons (Of unary.Vi (Number (pos 0))) Nil))))) ∷ (Data (Number (pos 64)) (Global name_g) (Of2 binary.Cons (Of unary.Vi (Number (pos 3))) Nil)) ∷ []) }); post = (record { opened = (sort.List ∷ sort.List ∷ sort.List ∷ []); facts = ((IsInt (Var 0 sort.Val)) ∷ []); locals = []; items = ((Data (Number (pos 64)) (Global name_x) (Var 1 sort.List)) ∷ (Data (Number (pos 64)) (Global name_arr) (Var 2 sort.List)) ∷ (Data (Number (pos 64)) (Global name_g) (Var 3 sort.List)) ∷ []) }) }) (record { temps = (name_s ∷ name_t ∷ name_i ∷ name_x1 ∷ name_d0 ∷ name_p1 ∷ name_q1 ∷ []); body = (c.Then (c.Set 0 (c.Const 3)) (c.Then (c.Set 1 (c.Const 1)) (c.Then (c.Store (root.Global name_x 1) c.Here (c.Binary two.Add kind.Signed (c.Temp 0) (c.Const 1))) (c.Then (c.Malloc 5 3) (c.Then (c.If (c.Pointers (c.Temp 5) (c.Const 0) true) (c.Then (c.Return (Some (c.Const 0))) c.End) c.End) (c.Then (c.Store (root.Temp 5) (c.Offset 0 c.Here) (c.Temp 0)) (c.Then (c.Load 1 (root.Temp 5) (c.Offset 0 c.Here)) (c.Then (c.Free (c.Temp 5)) (c.Then (c.Set 0 (c.Binary two.Add kind.Signed (c.Temp 0) (c.Const 1))) (c.Then (c.Store (root.Global name_x 1) c.Here (c.Temp 1)) (c.Then (c.Call None name_put ((c.Address (root.Global name_x 1) c.Here) ∷ (c.Const 2) ∷ [])) (c.Then (c.If (c.Nonzero kind.Signed (c.Binary two.Lt kind.Signed (c.Const 1) (c.Const 0))) (c.Then (c.Load 1 (root.Global name_g 1) c.Here) c.End) c.End) (c.Then (c.Return (Some (c.Binary two.Add kind.Signed (c.Const 2) (c.Const 2)))) c.End))))))))))))) }) (s.Then 1 (s.Set ([]) ([])) s.NoBlock (s.Then 2 (s.Set ([]) ([])) s.NoBlock (s.Then 3 (s.Bounds 63 None ([])) s.NoBlock (s.Then 4 (s.Store 0 ([]) ([])) s.NoBlock (s.Then 5 (s.Malloc name_k1 ([]) ([])) (s.WithBlock (s.Then 6 (s.If ([]) ([]) ([]) ([])) (s.WithBlock (s.Then 7 (s.Return ((Of2 binary.Cons (Of unary.Vi (Number (pos 4))) Nil) ∷ (Of2 binary.Cons (Of unary.Vi (Number (pos 1))) (Of2 binary.Cons (Of unary.Vi (Number (pos 2))) (Of2 binary.Cons (Of unary.Vi (Number (pos 0))) (Of2 binary.Cons (Of unary.Vi (Number (pos 0))) Nil)))) ∷ (Of2 binary.Cons (Of unary.Vi (Number (pos 3))) Nil) ∷ []) ([]) ([])) s.NoBlock s.End) (s.WithBlock (s.Then 8 (s.Absurd ([])) s.NoBlock s.End) s.NoBlock)) s.End) (s.WithBlock (s.Then 9 (s.If (3 ∷ []) ([]) ([]) ([])) (s.WithBlock (s.Then 10 (s.Subst name_k1) s.NoBlock (s.Then 11 (s.Absurd ([])) s.NoBlock s.End)) (s.WithBlock (s.Then 12 (s.Store 3 ([]) ([])) s.NoBlock (s.Then 13 (s.Load 3 ([]) ([])) s.NoBlock (s.Then 14 (s.Free 3 4 ([])) s.NoBlock (s.Then 15 (s.Set ([]) ([])) s.NoBlock (s.Then 16 (s.Store 0 ([]) ([])) s.NoBlock (s.Then 17 (s.Call ((Global name_x) ∷ (Of unary.Vi (Number (pos 2))) ∷ (Of unary.Vi (Number (pos 3))) ∷ []) ([]) ([]) ([])) s.NoBlock (s.Then 18 (s.If ([]) ([]) ([]) ([])) (s.WithBlock (s.Then 19 (s.Absurd ([])) s.NoBlock s.End) (s.WithBlock (s.Then 20 (s.Return ((Of2 binary.Cons (Of unary.Vi (Number (pos 2))) Nil) ∷ (Of2 binary.Cons (Of unary.Vi (Number (pos 1))) (Of2 binary.Cons (Of unary.Vi (Number (pos 2))) (Of2 binary.Cons (Of unary.Vi (Number (pos 0))) (Of2 binary.Cons (Of unary.Vi (Number (pos 0))) Nil)))) ∷ (Of2 binary.Cons (Of unary.Vi (Number (pos 3))) Nil) ∷ []) ([]) ([])) s.NoBlock s.End) s.NoBlock)) s.End))))))) s.NoBlock)) s.End) s.NoBlock)) s.End))))) ≡ (RefusedAt 3 34 1)
unfolding computing
random_478 = refl

random_479 : body_verdict (record { predicates = ([]); specs = ((record { is_void = true; name = name_put; params = (name_p ∷ name_k ∷ []); vars = ((name_v, sort.Val) ∷ (name_w, sort.Val) ∷ (name_o, sort.Val) ∷ []); pre = (record { opened = []; facts = ([]); locals = ((name_p, (Var 0 sort.Val)) ∷ (name_k, (Var 1 sort.Val)) ∷ []); items = ((Data (Number (pos 64)) (Var 0 sort.Val) (Of2 binary.Cons (Var 2 sort.Val) Nil)) ∷ []) }); post = (record { opened = []; facts = ([]); locals = []; items = ((Data (Number (pos 64)) (Var 0 sort.Val) (Of2 binary.Cons (Var 1 sort.Val) Nil)) ∷ []) }) }) ∷ (record { is_void = false; name = name_main; params = ([]); vars = []; pre = (record { opened = []; facts = ([]); locals = []; items = ((Data (Number (pos 64)) (Global name_x) (Of2 binary.Cons (Of unary.Vi (Number (pos 3))) Nil)) ∷ (Data (Number (pos 64)) (Global name_arr) (Of2 binary.Cons (Of unary.Vi (Number (pos 1))) (Of2 binary.Cons (Of unary.Vi (Number (pos 2))) (Of2 binary.Cons (Of unary.Vi (Number (pos 0))) (Of2 binary.Cons (Of unary.Vi (Number (pos 0))) Nil))))) ∷ (Data (Number (pos 64)) (Global name_g) (Of2 binary.Cons (Of unary.Vi (Number (pos 3))) Nil)) ∷ []) }); post = (record { opened = (sort.List ∷ sort.List ∷ sort.List ∷ []); facts = ((IsInt (Var 0 sort.Val)) ∷ []); locals = []; items = ((Data (Number (pos 64)) (Global name_x) (Var 1 sort.List)) ∷ (Data (Number (pos 64)) (Global name_arr) (Var 2 sort.List)) ∷ (Data (Number (pos 64)) (Global name_g) (Var 3 sort.List)) ∷ []) }) }) ∷ []) }) (record { is_void = true; name = name_put; params = (name_p ∷ name_k ∷ []); vars = ((name_v, sort.Val) ∷ (name_w, sort.Val) ∷ (name_o, sort.Val) ∷ []); pre = (record { opened = []; facts = ([]); locals = ((name_p, (Var 0 sort.Val)) ∷ (name_k, (Var 1 sort.Val)) ∷ []); items = ((Data (Number (pos 64)) (Var 0 sort.Val) (Of2 binary.Cons (Var 2 sort.Val) Nil)) ∷ []) }); post = (record { opened = []; facts = ([]); locals = []; items = ((Data (Number (pos 64)) (Var 0 sort.Val) (Of2 binary.Cons (Var 1 sort.Val) Nil)) ∷ []) }) }) (record { temps = (name_p ∷ name_k ∷ []); body = (c.Then (c.Store (root.Temp 0) c.Here (c.Temp 1)) (c.Then (c.Return None) c.End)) }) (s.Then 1 (s.Store 0 ([]) ([])) s.NoBlock (s.Then 2 (s.Store 0 ([]) ([])) s.NoBlock (s.Then 3 (s.Return ([]) ([]) ([])) s.NoBlock s.End))) ≡ (RefusedAt 2 4 1)
unfolding computing
random_479 = refl

random_480 : body_verdict (record { predicates = ([]); specs = ((record { is_void = true; name = name_put; params = (name_p ∷ name_k ∷ []); vars = ((name_v, sort.Val) ∷ (name_w, sort.Val) ∷ (name_o, sort.Val) ∷ []); pre = (record { opened = []; facts = ([]); locals = ((name_p, (Var 0 sort.Val)) ∷ (name_k, (Var 1 sort.Val)) ∷ []); items = ((Data (Number (pos 64)) (Var 0 sort.Val) (Of2 binary.Cons (Var 2 sort.Val) Nil)) ∷ []) }); post = (record { opened = []; facts = ([]); locals = []; items = ((Data (Number (pos 64)) (Var 0 sort.Val) (Of2 binary.Cons (Var 1 sort.Val) Nil)) ∷ []) }) }) ∷ (record { is_void = false; name = name_main; params = ([]); vars = []; pre = (record { opened = []; facts = ([]); locals = []; items = ((Data (Number (pos 64)) (Global name_x) (Of2 binary.Cons (Of unary.Vi (Number (pos 3))) Nil)) ∷ (Data (Number (pos 64)) (Global name_arr) (Of2 binary.Cons (Of unary.Vi (Number (pos 1))) (Of2 binary.Cons (Of unary.Vi (Number (pos 2))) (Of2 binary.Cons (Of unary.Vi (Number (pos 0))) (Of2 binary.Cons (Of unary.Vi (Number (pos 0))) Nil))))) ∷ (Data (Number (pos 63)) (Global name_g) (Of2 binary.Cons (Of unary.Vi (Number (pos 3))) Nil)) ∷ []) }); post = (record { opened = (sort.List ∷ sort.List ∷ sort.List ∷ []); facts = ((IsInt (Var 0 sort.Val)) ∷ []); locals = []; items = ((Data (Number (pos 64)) (Global name_x) (Var 1 sort.List)) ∷ (Data (Number (pos 64)) (Global name_arr) (Var 2 sort.List)) ∷ (Data (Number (pos 64)) (Global name_g) (Var 3 sort.List)) ∷ []) }) }) ∷ []) }) (record { is_void = false; name = name_main; params = ([]); vars = []; pre = (record { opened = []; facts = ([]); locals = []; items = ((Data (Number (pos 64)) (Global name_x) (Of2 binary.Cons (Of unary.Vi (Number (pos 3))) Nil)) ∷ (Data (Number (pos 64)) (Global name_arr) (Of2 binary.Cons (Of unary.Vi (Number (pos 1))) (Of2 binary.Cons (Of unary.Vi (Number (pos 2))) (Of2 binary.Cons (Of unary.Vi (Number (pos 0))) (Of2 binary.Cons (Of unary.Vi (Number (pos 0))) Nil))))) ∷ (Data (Number (pos 63)) (Global name_g) (Of2 binary.Cons (Of unary.Vi (Number (pos 3))) Nil)) ∷ []) }); post = (record { opened = (sort.List ∷ sort.List ∷ sort.List ∷ []); facts = ((IsInt (Var 0 sort.Val)) ∷ []); locals = []; items = ((Data (Number (pos 64)) (Global name_x) (Var 1 sort.List)) ∷ (Data (Number (pos 64)) (Global name_arr) (Var 2 sort.List)) ∷ (Data (Number (pos 64)) (Global name_g) (Var 3 sort.List)) ∷ []) }) }) (record { temps = (name_s ∷ name_t ∷ name_i ∷ name_x1 ∷ name_d0 ∷ name_p1 ∷ name_q1 ∷ []); body = (c.Then (c.Set 0 (c.Const 3)) (c.Then (c.Set 1 (c.Const 1)) (c.Then (c.Store (root.Global name_x 1) c.Here (c.Binary two.Add kind.Signed (c.Temp 0) (c.Const 1))) (c.Then (c.Malloc 5 3) (c.Then (c.If (c.Pointers (c.Temp 5) (c.Const 0) true) (c.Then (c.Return (Some (c.Const 0))) c.End) c.End) (c.Then (c.Store (root.Temp 5) (c.Offset 0 c.Here) (c.Temp 0)) (c.Then (c.Load 1 (root.Temp 5) (c.Offset 0 c.Here)) (c.Then (c.Free (c.Temp 5)) (c.Then (c.Set 0 (c.Binary two.Add kind.Signed (c.Temp 0) (c.Const 1))) (c.Then (c.Store (root.Global name_x 1) c.Here (c.Temp 1)) (c.Then (c.Call None name_put ((c.Address (root.Global name_x 1) c.Here) ∷ (c.Const 2) ∷ [])) (c.Then (c.If (c.Nonzero kind.Signed (c.Binary two.Lt kind.Signed (c.Const 1) (c.Const 0))) (c.Then (c.Load 1 (root.Global name_g 1) c.Here) c.End) c.End) (c.Then (c.Return (Some (c.Binary two.Add kind.Signed (c.Const 2) (c.Const 2)))) c.End))))))))))))) }) (s.Then 1 (s.Set ([]) ([])) s.NoBlock (s.Then 2 (s.Set ([]) ([])) s.NoBlock (s.Then 3 (s.Bounds 1 None ([])) s.NoBlock (s.Then 4 (s.Store 0 ([]) ([])) s.NoBlock (s.Then 5 (s.Malloc name_k1 ([]) ([])) (s.WithBlock (s.Then 6 (s.If ([]) ([]) ([]) ([])) (s.WithBlock (s.Then 7 (s.Return ((Of2 binary.Cons (Of unary.Vi (Number (pos 4))) Nil) ∷ (Of2 binary.Cons (Of unary.Vi (Number (pos 1))) (Of2 binary.Cons (Of unary.Vi (Number (pos 2))) (Of2 binary.Cons (Of unary.Vi (Number (pos 0))) (Of2 binary.Cons (Of unary.Vi (Number (pos 0))) Nil)))) ∷ (Of2 binary.Cons (Of unary.Vi (Number (pos 0))) Nil) ∷ []) ([]) ([])) s.NoBlock s.End) (s.WithBlock (s.Then 8 (s.Absurd ([])) s.NoBlock s.End) s.NoBlock)) s.End) (s.WithBlock (s.Then 9 (s.If (3 ∷ []) ([]) ([]) ([])) (s.WithBlock (s.Then 10 (s.Subst name_k1) s.NoBlock (s.Then 11 (s.Absurd ([])) s.NoBlock s.End)) (s.WithBlock (s.Then 12 (s.Store 3 ([]) ([])) s.NoBlock (s.Then 13 (s.Load 3 ([]) ([])) s.NoBlock (s.Then 14 (s.Free 3 4 ([])) s.NoBlock (s.Then 15 (s.Set ([]) ([])) s.NoBlock (s.Then 16 (s.Store 0 ([]) ([])) s.NoBlock (s.Then 17 (s.Call ((Global name_x) ∷ (Of unary.Vi (Number (pos 2))) ∷ (Of unary.Vi (Number (pos 3))) ∷ []) ([]) ([]) ([])) s.NoBlock (s.Then 18 (s.If ([]) ([]) ([]) ([])) (s.WithBlock (s.Then 19 (s.Absurd ([])) s.NoBlock s.End) (s.WithBlock (s.Then 20 (s.Return ((Of2 binary.Cons (Of unary.Vi (Number (pos 2))) Nil) ∷ (Of2 binary.Cons (Of unary.Vi (Number (pos 1))) (Of2 binary.Cons (Of unary.Vi (Number (pos 2))) (Of2 binary.Cons (Of unary.Vi (Number (pos 0))) (Of2 binary.Cons (Of unary.Vi (Number (pos 0))) Nil)))) ∷ (Of2 binary.Cons (Of unary.Vi (Number (pos 3))) Nil) ∷ []) ([]) ([])) s.NoBlock s.End) s.NoBlock)) s.End))))))) s.NoBlock)) s.End) s.NoBlock)) s.End))))) ≡ (RefusedAt 7 9 5)
unfolding computing
random_480 = refl

random_481 : body_verdict (record { predicates = ([]); specs = ((record { is_void = true; name = name_put; params = (name_p ∷ name_k ∷ []); vars = ((name_v, sort.Val) ∷ (name_w, sort.Val) ∷ (name_o, sort.Val) ∷ []); pre = (record { opened = []; facts = ([]); locals = ((name_p, (Var 0 sort.Val)) ∷ (name_k, (Var 1 sort.Val)) ∷ []); items = ((Data (Number (pos 64)) (Var 0 sort.Val) (Of2 binary.Cons (Var 2 sort.Val) Nil)) ∷ []) }); post = (record { opened = []; facts = ([]); locals = []; items = ((Data (Number (pos 64)) (Var 0 sort.Val) (Of2 binary.Cons (Var 1 sort.Val) Nil)) ∷ []) }) }) ∷ (record { is_void = false; name = name_main; params = ([]); vars = []; pre = (record { opened = []; facts = ([]); locals = []; items = ((Data (Number (pos 64)) (Global name_x) (Of2 binary.Cons (Of unary.Vi (Number (pos 3))) Nil)) ∷ (Data (Number (pos 64)) (Global name_arr) (Of2 binary.Cons (Of unary.Vi (Number (pos 1))) (Of2 binary.Cons (Of unary.Vi (Number (pos 2))) (Of2 binary.Cons (Of unary.Vi (Number (pos 0))) (Of2 binary.Cons (Of unary.Vi (Number (pos 0))) Nil))))) ∷ (Data (Number (pos 63)) (Global name_g) (Of2 binary.Cons (Of unary.Vi (Number (pos 3))) Nil)) ∷ []) }); post = (record { opened = (sort.List ∷ sort.List ∷ sort.List ∷ []); facts = ((IsInt (Var 0 sort.Val)) ∷ []); locals = []; items = ((Data (Number (pos 64)) (Global name_x) (Var 1 sort.List)) ∷ (Data (Number (pos 64)) (Global name_arr) (Var 2 sort.List)) ∷ (Data (Number (pos 64)) (Global name_g) (Var 3 sort.List)) ∷ []) }) }) ∷ []) }) (record { is_void = true; name = name_put; params = (name_p ∷ name_k ∷ []); vars = ((name_v, sort.Val) ∷ (name_w, sort.Val) ∷ (name_o, sort.Val) ∷ []); pre = (record { opened = []; facts = ([]); locals = ((name_p, (Var 0 sort.Val)) ∷ (name_k, (Var 1 sort.Val)) ∷ []); items = ((Data (Number (pos 64)) (Var 0 sort.Val) (Of2 binary.Cons (Var 2 sort.Val) Nil)) ∷ []) }); post = (record { opened = []; facts = ([]); locals = []; items = ((Data (Number (pos 64)) (Var 0 sort.Val) (Of2 binary.Cons (Var 1 sort.Val) Nil)) ∷ []) }) }) (record { temps = (name_p ∷ name_k ∷ []); body = (c.Then (c.Store (root.Temp 0) c.Here (c.Temp 1)) (c.Then (c.Return None) c.End)) }) (s.Then 1 (s.Store 0 ([]) ([])) s.NoBlock (s.Then 2 (s.Return ([]) ([]) ([])) s.NoBlock s.End)) ≡ Accepted
unfolding computing
random_481 = refl

random_482 : body_verdict (record { predicates = ([]); specs = ((record { is_void = true; name = name_put; params = (name_p ∷ name_k ∷ []); vars = ((name_v, sort.Val) ∷ (name_w, sort.Val) ∷ (name_o, sort.Val) ∷ []); pre = (record { opened = []; facts = ([]); locals = ((name_p, (Var 0 sort.Val)) ∷ (name_k, (Var 1 sort.Val)) ∷ []); items = ((Data (Number (pos 64)) (Var 0 sort.Val) (Of2 binary.Cons (Var 2 sort.Val) Nil)) ∷ []) }); post = (record { opened = []; facts = ([]); locals = []; items = ((Data (Number (pos 64)) (Var 0 sort.Val) (Of2 binary.Cons (Var 1 sort.Val) Nil)) ∷ []) }) }) ∷ (record { is_void = false; name = name_main; params = ([]); vars = []; pre = (record { opened = []; facts = ([]); locals = []; items = ((Data (Number (pos 64)) (Global name_x) (Of2 binary.Cons (Of unary.Vi (Number (pos 3))) Nil)) ∷ (Data (Number (pos 64)) (Global name_arr) (Of2 binary.Cons (Of unary.Vi (Number (pos 1))) (Of2 binary.Cons (Of unary.Vi (Number (pos 2))) (Of2 binary.Cons (Of unary.Vi (Number (pos 0))) (Of2 binary.Cons (Of unary.Vi (Number (pos 0))) Nil))))) ∷ (Data (Number (pos 64)) (Global name_g) (Of2 binary.Cons (Of unary.Vi (Number (pos 3))) Nil)) ∷ []) }); post = (record { opened = (sort.List ∷ sort.List ∷ sort.List ∷ []); facts = ((IsInt (Var 0 sort.Val)) ∷ []); locals = []; items = ((Data (Number (pos 64)) (Global name_x) (Var 1 sort.List)) ∷ (Data (Number (pos 64)) (Global name_arr) (Var 2 sort.List)) ∷ (Data (Number (pos 64)) (Global name_g) (Var 3 sort.List)) ∷ []) }) }) ∷ []) }) (record { is_void = false; name = name_main; params = ([]); vars = []; pre = (record { opened = []; facts = ([]); locals = []; items = ((Data (Number (pos 64)) (Global name_x) (Of2 binary.Cons (Of unary.Vi (Number (pos 3))) Nil)) ∷ (Data (Number (pos 64)) (Global name_arr) (Of2 binary.Cons (Of unary.Vi (Number (pos 1))) (Of2 binary.Cons (Of unary.Vi (Number (pos 2))) (Of2 binary.Cons (Of unary.Vi (Number (pos 0))) (Of2 binary.Cons (Of unary.Vi (Number (pos 0))) Nil))))) ∷ (Data (Number (pos 64)) (Global name_g) (Of2 binary.Cons (Of unary.Vi (Number (pos 3))) Nil)) ∷ []) }); post = (record { opened = (sort.List ∷ sort.List ∷ sort.List ∷ []); facts = ((IsInt (Var 0 sort.Val)) ∷ []); locals = []; items = ((Data (Number (pos 64)) (Global name_x) (Var 1 sort.List)) ∷ (Data (Number (pos 64)) (Global name_arr) (Var 2 sort.List)) ∷ (Data (Number (pos 64)) (Global name_g) (Var 3 sort.List)) ∷ []) }) }) (record { temps = (name_s ∷ name_t ∷ name_i ∷ name_x1 ∷ name_d0 ∷ name_p1 ∷ name_q1 ∷ []); body = (c.Then (c.Set 0 (c.Const 3)) (c.Then (c.Set 1 (c.Const 1)) (c.Then (c.Store (root.Global name_x 1) c.Here (c.Binary two.Add kind.Signed (c.Temp 0) (c.Const 1))) (c.Then (c.Malloc 5 3) (c.Then (c.If (c.Pointers (c.Temp 5) (c.Const 0) true) (c.Then (c.Return (Some (c.Const 0))) c.End) c.End) (c.Then (c.Store (root.Temp 5) (c.Offset 0 c.Here) (c.Temp 0)) (c.Then (c.Load 1 (root.Temp 5) (c.Offset 0 c.Here)) (c.Then (c.Free (c.Temp 5)) (c.Then (c.Set 0 (c.Binary two.Add kind.Signed (c.Temp 0) (c.Const 1))) (c.Then (c.Store (root.Global name_x 1) c.Here (c.Temp 1)) (c.Then (c.Call None name_put ((c.Address (root.Global name_x 1) c.Here) ∷ (c.Const 2) ∷ [])) (c.Then (c.If (c.Nonzero kind.Signed (c.Binary two.Lt kind.Signed (c.Const 1) (c.Const 0))) (c.Then (c.Load 1 (root.Global name_g 1) c.Here) c.End) c.End) (c.Then (c.Return (Some (c.Binary two.Add kind.Signed (c.Const 2) (c.Const 2)))) c.End))))))))))))) }) (s.Then 1 (s.Set ([]) ([])) s.NoBlock (s.Then 2 (s.Set ([]) ([])) s.NoBlock (s.Then 3 (s.Bounds 1 None ([])) s.NoBlock (s.Then 4 (s.Store 0 ([]) ([])) s.NoBlock (s.Then 5 (s.Malloc name_k1 ([]) ([])) (s.WithBlock (s.Then 6 (s.If ([]) ([]) ([]) ([])) (s.WithBlock (s.Then 7 (s.Return ((Of2 binary.Cons (Of unary.Vi (Number (pos 4))) Nil) ∷ (Of2 binary.Cons (Of unary.Vi (Number (pos 1))) (Of2 binary.Cons (Of unary.Vi (Number (pos 2))) (Of2 binary.Cons (Of unary.Vi (Number (pos 0))) (Of2 binary.Cons (Of unary.Vi (Number (pos 0))) Nil)))) ∷ (Of2 binary.Cons (Of unary.Vi (Number (pos 3))) Nil) ∷ []) ([]) ([])) s.NoBlock s.End) (s.WithBlock (s.Then 8 (s.Absurd ([])) s.NoBlock s.End) s.NoBlock)) s.End) (s.WithBlock (s.Then 9 (s.Subst name_k1) s.NoBlock (s.Then 10 (s.If (3 ∷ []) ([]) ([]) ([])) (s.WithBlock (s.Then 11 (s.Absurd ([])) s.NoBlock s.End) (s.WithBlock (s.Then 12 (s.Store 3 ([]) ([])) s.NoBlock (s.Then 13 (s.Load 3 ([]) ([])) s.NoBlock (s.Then 14 (s.Free 3 4 ([])) s.NoBlock (s.Then 15 (s.Set ([]) ([])) s.NoBlock (s.Then 16 (s.Store 0 ([]) ([])) s.NoBlock (s.Then 17 (s.Call ((Global name_x) ∷ (Of unary.Vi (Number (pos 2))) ∷ (Of unary.Vi (Number (pos 3))) ∷ []) ([]) ([]) ([])) s.NoBlock (s.Then 18 (s.If ([]) ([]) ([]) ([])) (s.WithBlock (s.Then 19 (s.Absurd ([])) s.NoBlock s.End) (s.WithBlock (s.Then 20 (s.Return ((Of2 binary.Cons (Of unary.Vi (Number (pos 2))) Nil) ∷ (Of2 binary.Cons (Of unary.Vi (Number (pos 1))) (Of2 binary.Cons (Of unary.Vi (Number (pos 2))) (Of2 binary.Cons (Of unary.Vi (Number (pos 0))) (Of2 binary.Cons (Of unary.Vi (Number (pos 0))) Nil)))) ∷ (Of2 binary.Cons (Of unary.Vi (Number (pos 3))) Nil) ∷ []) ([]) ([])) s.NoBlock s.End) s.NoBlock)) s.End))))))) s.NoBlock)) s.End)) s.NoBlock)) s.End))))) ≡ (RefusedAt 9 27 1)
unfolding computing
random_482 = refl

random_483 : body_verdict (record { predicates = ([]); specs = ((record { is_void = true; name = name_put; params = (name_p ∷ name_k ∷ []); vars = ((name_v, sort.Val) ∷ (name_w, sort.Val) ∷ (name_o, sort.Val) ∷ []); pre = (record { opened = []; facts = ([]); locals = ((name_p, (Var 0 sort.Val)) ∷ (name_k, (Var 1 sort.Val)) ∷ []); items = ((Data (Number (pos 64)) (Var 0 sort.Val) (Of2 binary.Cons (Var 2 sort.Val) Nil)) ∷ []) }); post = (record { opened = []; facts = ([]); locals = []; items = ((Data (Number (pos 64)) (Var 0 sort.Val) (Of2 binary.Cons (Var 1 sort.Val) Nil)) ∷ []) }) }) ∷ (record { is_void = false; name = name_main; params = ([]); vars = []; pre = (record { opened = []; facts = ([]); locals = []; items = ((Data (Number (pos 64)) (Global name_x) (Of2 binary.Cons (Of unary.Vi (Number (pos 3))) Nil)) ∷ (Data (Number (pos 64)) (Global name_arr) (Of2 binary.Cons (Of unary.Vi (Number (pos 1))) (Of2 binary.Cons (Of unary.Vi (Number (pos 2))) (Of2 binary.Cons (Of unary.Vi (Number (pos 0))) (Of2 binary.Cons (Of unary.Vi (Number (pos 0))) Nil))))) ∷ (Data (Number (pos 64)) (Global name_g) (Of2 binary.Cons (Of unary.Vi (Number (pos 3))) Nil)) ∷ []) }); post = (record { opened = (sort.List ∷ sort.List ∷ sort.List ∷ []); facts = ((IsInt (Var 0 sort.Val)) ∷ []); locals = []; items = ((Data (Number (pos 64)) (Global name_x) (Var 1 sort.List)) ∷ (Data (Number (pos 64)) (Global name_arr) (Var 2 sort.List)) ∷ (Data (Number (pos 64)) (Global name_g) (Var 3 sort.List)) ∷ []) }) }) ∷ []) }) (record { is_void = false; name = name_main; params = ([]); vars = []; pre = (record { opened = []; facts = ([]); locals = []; items = ((Data (Number (pos 64)) (Global name_x) (Of2 binary.Cons (Of unary.Vi (Number (pos 3))) Nil)) ∷ (Data (Number (pos 64)) (Global name_arr) (Of2 binary.Cons (Of unary.Vi (Number (pos 1))) (Of2 binary.Cons (Of unary.Vi (Number (pos 2))) (Of2 binary.Cons (Of unary.Vi (Number (pos 0))) (Of2 binary.Cons (Of unary.Vi (Number (pos 0))) Nil))))) ∷ (Data (Number (pos 64)) (Global name_g) (Of2 binary.Cons (Of unary.Vi (Number (pos 3))) Nil)) ∷ []) }); post = (record { opened = (sort.List ∷ sort.List ∷ sort.List ∷ []); facts = ((IsInt (Var 0 sort.Val)) ∷ []); locals = []; items = ((Data (Number (pos 64)) (Global name_x) (Var 1 sort.List)) ∷ (Data (Number (pos 64)) (Global name_arr) (Var 2 sort.List)) ∷ (Data (Number (pos 64)) (Global name_g) (Var 3 sort.List)) ∷ []) }) }) (record { temps = (name_s ∷ name_t ∷ name_i ∷ name_x1 ∷ name_d0 ∷ name_p1 ∷ name_q1 ∷ []); body = (c.Then (c.Set 0 (c.Const 3)) (c.Then (c.Set 1 (c.Const 1)) (c.Then (c.Store (root.Global name_x 1) c.Here (c.Binary two.Add kind.Signed (c.Temp 0) (c.Const 1))) (c.Then (c.Malloc 5 3) (c.Then (c.If (c.Pointers (c.Temp 5) (c.Const 0) true) (c.Then (c.Return (Some (c.Const 0))) c.End) c.End) (c.Then (c.Store (root.Temp 5) (c.Offset 0 c.Here) (c.Temp 0)) (c.Then (c.Load 1 (root.Temp 5) (c.Offset 0 c.Here)) (c.Then (c.Free (c.Temp 5)) (c.Then (c.Set 0 (c.Binary two.Add kind.Signed (c.Temp 0) (c.Const 1))) (c.Then (c.Store (root.Global name_x 1) c.Here (c.Temp 1)) (c.Then (c.Call None name_put ((c.Address (root.Global name_x 1) c.Here) ∷ (c.Const 2) ∷ [])) (c.Then (c.If (c.Nonzero kind.Signed (c.Binary two.Lt kind.Signed (c.Const 1) (c.Const 0))) (c.Then (c.Load 1 (root.Global name_g 1) c.Here) c.End) c.End) (c.Then (c.Return (Some (c.Binary two.Add kind.Signed (c.Const 2) (c.Const 2)))) c.End))))))))))))) }) (s.Then 1 (s.Set ([]) ([])) s.NoBlock (s.Then 2 (s.Set ([]) ([])) s.NoBlock (s.Then 3 (s.Bounds 1 None ([])) s.NoBlock (s.Then 4 (s.Store 0 ([]) ([])) s.NoBlock (s.Then 5 (s.Malloc name_k1 ([]) ([])) (s.WithBlock (s.Then 6 (s.If ([]) ([]) ([]) ([])) (s.WithBlock (s.Then 7 (s.Return ((Of2 binary.Cons (Of unary.Vi (Number (pos 4))) Nil) ∷ (Of2 binary.Cons (Of unary.Vi (Number (pos 1))) (Of2 binary.Cons (Of unary.Vi (Number (pos 2))) (Of2 binary.Cons (Of unary.Vi (Number (pos 0))) (Of2 binary.Cons (Of unary.Vi (Number (pos 0))) Nil)))) ∷ (Of2 binary.Cons (Of unary.Vi (Number (pos 3))) Nil) ∷ []) ([]) ([])) s.NoBlock s.End) (s.WithBlock (s.Then 8 (s.Absurd ([])) s.NoBlock s.End) s.NoBlock)) s.End) (s.WithBlock (s.Then 9 (s.If (3 ∷ []) ([]) ([]) ([])) (s.WithBlock (s.Then 10 (s.Subst name_k1) s.NoBlock s.End) (s.WithBlock (s.Then 11 (s.Store 3 ([]) ([])) s.NoBlock (s.Then 12 (s.Load 3 ([]) ([])) s.NoBlock (s.Then 13 (s.Free 3 4 ([])) s.NoBlock (s.Then 14 (s.Set ([]) ([])) s.NoBlock (s.Then 15 (s.Store 0 ([]) ([])) s.NoBlock (s.Then 16 (s.Call ((Global name_x) ∷ (Of unary.Vi (Number (pos 2))) ∷ (Of unary.Vi (Number (pos 3))) ∷ []) ([]) ([]) ([])) s.NoBlock (s.Then 17 (s.If ([]) ([]) ([]) ([])) (s.WithBlock (s.Then 18 (s.Absurd ([])) s.NoBlock s.End) (s.WithBlock (s.Then 19 (s.Return ((Of2 binary.Cons (Of unary.Vi (Number (pos 2))) Nil) ∷ (Of2 binary.Cons (Of unary.Vi (Number (pos 1))) (Of2 binary.Cons (Of unary.Vi (Number (pos 2))) (Of2 binary.Cons (Of unary.Vi (Number (pos 0))) (Of2 binary.Cons (Of unary.Vi (Number (pos 0))) Nil)))) ∷ (Of2 binary.Cons (Of unary.Vi (Number (pos 3))) Nil) ∷ []) ([]) ([])) s.NoBlock s.End) s.NoBlock)) s.End))))))) s.NoBlock)) s.End) s.NoBlock)) s.End))))) ≡ (RefusedAt 11 0 10)
unfolding computing
random_483 = refl

random_484 : body_verdict (record { predicates = ([]); specs = ((record { is_void = true; name = name_put; params = (name_p ∷ name_k ∷ []); vars = ((name_v, sort.Val) ∷ (name_w, sort.Val) ∷ (name_o, sort.Val) ∷ []); pre = (record { opened = []; facts = ([]); locals = ((name_p, (Var 0 sort.Val)) ∷ (name_k, (Var 1 sort.Val)) ∷ []); items = ((Data (Number (pos 64)) (Var 0 sort.Val) (Of2 binary.Cons (Var 2 sort.Val) Nil)) ∷ []) }); post = (record { opened = []; facts = ([]); locals = []; items = ((Data (Number (pos 64)) (Var 0 sort.Val) (Of2 binary.Cons (Var 1 sort.Val) Nil)) ∷ []) }) }) ∷ (record { is_void = false; name = name_main; params = ([]); vars = []; pre = (record { opened = []; facts = ([]); locals = []; items = ((Data (Number (pos 64)) (Global name_x) (Of2 binary.Cons (Of unary.Vi (Number (pos 3))) Nil)) ∷ (Data (Number (pos 64)) (Global name_arr) (Of2 binary.Cons (Of unary.Vi (Number (pos 1))) (Of2 binary.Cons (Of unary.Vi (Number (pos 2))) (Of2 binary.Cons (Of unary.Vi (Number (pos 0))) (Of2 binary.Cons (Of unary.Vi (Number (pos 0))) Nil))))) ∷ (Data (Number (pos 64)) (Global name_g) (Of2 binary.Cons (Of unary.Vi (Number (pos 3))) Nil)) ∷ []) }); post = (record { opened = (sort.List ∷ sort.List ∷ sort.List ∷ []); facts = ((IsInt (Var 0 sort.Val)) ∷ []); locals = []; items = ((Data (Number (pos 64)) (Global name_x) (Var 1 sort.List)) ∷ (Data (Number (pos 64)) (Global name_arr) (Var 2 sort.List)) ∷ (Data (Number (pos 64)) (Global name_g) (Var 3 sort.List)) ∷ []) }) }) ∷ []) }) (record { is_void = false; name = name_main; params = ([]); vars = []; pre = (record { opened = []; facts = ([]); locals = []; items = ((Data (Number (pos 64)) (Global name_x) (Of2 binary.Cons (Of unary.Vi (Number (pos 3))) Nil)) ∷ (Data (Number (pos 64)) (Global name_arr) (Of2 binary.Cons (Of unary.Vi (Number (pos 1))) (Of2 binary.Cons (Of unary.Vi (Number (pos 2))) (Of2 binary.Cons (Of unary.Vi (Number (pos 0))) (Of2 binary.Cons (Of unary.Vi (Number (pos 0))) Nil))))) ∷ (Data (Number (pos 64)) (Global name_g) (Of2 binary.Cons (Of unary.Vi (Number (pos 3))) Nil)) ∷ []) }); post = (record { opened = (sort.List ∷ sort.List ∷ sort.List ∷ []); facts = ((IsInt (Var 0 sort.Val)) ∷ []); locals = []; items = ((Data (Number (pos 64)) (Global name_x) (Var 1 sort.List)) ∷ (Data (Number (pos 64)) (Global name_arr) (Var 2 sort.List)) ∷ (Data (Number (pos 64)) (Global name_g) (Var 3 sort.List)) ∷ []) }) }) (record { temps = (name_s ∷ name_t ∷ name_i ∷ name_x1 ∷ name_d0 ∷ name_p1 ∷ name_q1 ∷ []); body = (c.Then (c.Set 0 (c.Const 3)) (c.Then (c.Set 1 (c.Const 1)) (c.Then (c.Store (root.Global name_x 1) c.Here (c.Binary two.Add kind.Signed (c.Temp 0) (c.Const 1))) (c.Then (c.Malloc 5 3) (c.Then (c.If (c.Pointers (c.Temp 5) (c.Const 0) true) (c.Then (c.Return (Some (c.Const 0))) c.End) c.End) (c.Then (c.Store (root.Temp 5) (c.Offset 0 c.Here) (c.Temp 0)) (c.Then (c.Load 1 (root.Temp 5) (c.Offset 0 c.Here)) (c.Then (c.Free (c.Temp 5)) (c.Then (c.Set 0 (c.Binary two.Add kind.Signed (c.Temp 0) (c.Const 1))) (c.Then (c.Store (root.Global name_x 1) c.Here (c.Temp 1)) (c.Then (c.Call None name_put ((c.Address (root.Global name_x 1) c.Here) ∷ (c.Const 2) ∷ [])) (c.Then (c.If (c.Nonzero kind.Signed (c.Binary two.Lt kind.Signed (c.Const 1) (c.Const 0))) (c.Then (c.Load 1 (root.Global name_g 1) c.Here) c.End) c.End) (c.Then (c.Return (Some (c.Binary two.Add kind.Signed (c.Const 2) (c.Const 2)))) c.End))))))))))))) }) (s.Then 1 (s.Set ([]) ([])) s.NoBlock (s.Then 2 (s.Set ([]) ([])) s.NoBlock (s.Then 3 (s.Bounds 1 None ([])) s.NoBlock (s.Then 4 (s.Store 0 ([]) ([])) s.NoBlock (s.Then 5 (s.Malloc name_k1 ([]) ([])) (s.WithBlock (s.Then 6 (s.If ([]) ([]) ([]) ([])) (s.WithBlock (s.Then 7 (s.Return ((Of2 binary.Cons (Of unary.Vi (Number (pos 4))) Nil) ∷ (Of2 binary.Cons (Of unary.Vi (Number (pos 1))) (Of2 binary.Cons (Of unary.Vi (Number (pos 2))) (Of2 binary.Cons (Of unary.Vi (Number (pos 0))) (Of2 binary.Cons (Of unary.Vi (Number (pos 0))) Nil)))) ∷ (Of2 binary.Cons (Of unary.Vi (Number (pos 3))) Nil) ∷ []) ([]) ([])) s.NoBlock s.End) (s.WithBlock (s.Then 8 (s.Absurd ([])) s.NoBlock s.End) s.NoBlock)) s.End) (s.WithBlock (s.Then 9 (s.If (3 ∷ []) ([]) ([]) ([])) (s.WithBlock (s.Then 10 (s.Subst name_k1) s.NoBlock (s.Then 11 (s.Set ([]) ([])) s.NoBlock s.End)) (s.WithBlock (s.Then 12 (s.Store 3 ([]) ([])) s.NoBlock (s.Then 13 (s.Load 0 ([]) ([])) s.NoBlock (s.Then 14 (s.Free 3 4 ([])) s.NoBlock (s.Then 15 (s.Set ([]) ([])) s.NoBlock (s.Then 16 (s.Store 0 ([]) ([])) s.NoBlock (s.Then 17 (s.Call ((Global name_x) ∷ (Of unary.Vi (Number (pos 2))) ∷ (Of unary.Vi (Number (pos 3))) ∷ []) ([]) ([]) ([])) s.NoBlock (s.Then 18 (s.If ([]) ([]) ([]) ([])) (s.WithBlock (s.Then 19 (s.Absurd ([])) s.NoBlock s.End) (s.WithBlock (s.Then 20 (s.Return ((Of2 binary.Cons (Of unary.Vi (Number (pos 2))) Nil) ∷ (Of2 binary.Cons (Of unary.Vi (Number (pos 1))) (Of2 binary.Cons (Of unary.Vi (Number (pos 2))) (Of2 binary.Cons (Of unary.Vi (Number (pos 0))) (Of2 binary.Cons (Of unary.Vi (Number (pos 0))) Nil)))) ∷ (Of2 binary.Cons (Of unary.Vi (Number (pos 3))) Nil) ∷ []) ([]) ([])) s.NoBlock s.End) s.NoBlock)) s.End))))))) s.NoBlock)) s.End) s.NoBlock)) s.End))))) ≡ (RefusedAt 11 2 1)
unfolding computing
random_484 = refl

random_485 : body_verdict (record { predicates = ([]); specs = ((record { is_void = false; name = name_main; params = ([]); vars = []; pre = (record { opened = []; facts = ([]); locals = []; items = ((Data (Number (pos 64)) (Global name_g) (Of2 binary.Cons (Of unary.Vi (Number (pos 3))) Nil)) ∷ []) }); post = (record { opened = []; facts = ((Rel relation.Eq (Var 0 sort.Val) (Of unary.Vi (Number (pos 0)))) ∷ []); locals = []; items = ((Data (Number (pos 64)) (Global name_g) (Of2 binary.Cons (Of unary.Vi (Number (pos 1))) Nil)) ∷ []) }) }) ∷ []) }) (record { is_void = false; name = name_main; params = ([]); vars = []; pre = (record { opened = []; facts = ([]); locals = []; items = ((Data (Number (pos 64)) (Global name_g) (Of2 binary.Cons (Of unary.Vi (Number (pos 3))) Nil)) ∷ []) }); post = (record { opened = []; facts = ((Rel relation.Eq (Var 0 sort.Val) (Of unary.Vi (Number (pos 0)))) ∷ []); locals = []; items = ((Data (Number (pos 64)) (Global name_g) (Of2 binary.Cons (Of unary.Vi (Number (pos 1))) Nil)) ∷ []) }) }) (record { temps = (name_s ∷ name_t ∷ name_i ∷ name_x1 ∷ name_d0 ∷ name_p1 ∷ name_q1 ∷ []); body = (c.Then (c.Set 0 (c.Const 3)) (c.Then (c.Set 1 (c.Const 0)) (c.Then (c.Set 1 (c.Binary two.Mul kind.Signed (c.Temp 1) (c.Const 2))) (c.Then (c.Store (root.Global name_g 1) c.Here (c.Binary two.Div kind.Signed (c.Const 2) (c.Const 2))) (c.Then (c.Return (Some (c.Temp 1))) c.End))))) }) (s.Then 1 (s.Set ([]) ([])) s.NoBlock (s.Then 2 (s.Set ([]) ([])) s.NoBlock (s.Then 3 (s.Set ([]) ([])) s.NoBlock (s.Then 4 (s.Store 0 ([]) ([])) s.NoBlock (s.Then 5 (s.Return ([]) ([]) ([])) s.NoBlock s.End))))) ≡ Accepted
unfolding computing
random_485 = refl

random_486 : body_verdict (record { predicates = ([]); specs = ((record { is_void = false; name = name_main; params = ([]); vars = []; pre = (record { opened = []; facts = ([]); locals = []; items = ((Data (Number (pos 64)) (Global name_g) (Of2 binary.Cons (Of unary.Vi (Number (pos 3))) Nil)) ∷ []) }); post = (record { opened = []; facts = ((Rel relation.Eq (Var 0 sort.Val) (Of unary.Vi (Number (pos 0)))) ∷ []); locals = []; items = ((Data (Number (pos 64)) (Global name_g) (Of2 binary.Cons (Of unary.Vi (Number (pos 1))) Nil)) ∷ []) }) }) ∷ []) }) (record { is_void = false; name = name_main; params = ([]); vars = []; pre = (record { opened = []; facts = ([]); locals = []; items = ((Data (Number (pos 64)) (Global name_g) (Of2 binary.Cons (Of unary.Vi (Number (pos 3))) Nil)) ∷ []) }); post = (record { opened = []; facts = ((Rel relation.Eq (Var 0 sort.Val) (Of unary.Vi (Number (pos 0)))) ∷ []); locals = []; items = ((Data (Number (pos 64)) (Global name_g) (Of2 binary.Cons (Of unary.Vi (Number (pos 1))) Nil)) ∷ []) }) }) (record { temps = (name_s ∷ name_t ∷ name_i ∷ name_x1 ∷ name_d0 ∷ name_p1 ∷ name_q1 ∷ []); body = (c.Then (c.Set 0 (c.Const 3)) (c.Then (c.Set 1 (c.Const 0)) (c.Then (c.Set 1 (c.Binary two.Mul kind.Signed (c.Temp 1) (c.Const 2))) (c.Then (c.Store (root.Global name_g 1) c.Here (c.Binary two.Div kind.Signed (c.Const 2) (c.Const 2))) (c.Then (c.Return (Some (c.Temp 1))) c.End))))) }) (s.Then 1 (s.Set ([]) ([])) s.NoBlock (s.Then 2 (s.Set ([]) ([])) s.NoBlock (s.Then 3 (s.Set ([]) ([])) s.NoBlock (s.Then 4 (s.Store 5 ([]) ([])) s.NoBlock (s.Then 5 (s.Return ([]) ([]) ([])) s.NoBlock s.End))))) ≡ (RefusedAt 4 4 1)
unfolding computing
random_486 = refl

random_487 : body_verdict (record { predicates = ([]); specs = ((record { is_void = false; name = name_main; params = ([]); vars = []; pre = (record { opened = []; facts = ([]); locals = []; items = ((Data (Number (pos 64)) (Global name_g) (Of2 binary.Cons (Of unary.Vi (Number (pos 3))) Nil)) ∷ []) }); post = (record { opened = []; facts = ((Rel relation.Eq (Var 0 sort.Val) (Of unary.Vi (Number (pos 0)))) ∷ []); locals = []; items = ((Data (Number (pos 64)) (Global name_g) (Of2 binary.Cons (Of unary.Vi (Number (pos 1))) Nil)) ∷ []) }) }) ∷ []) }) (record { is_void = false; name = name_main; params = ([]); vars = []; pre = (record { opened = []; facts = ([]); locals = []; items = ((Data (Number (pos 64)) (Global name_g) (Of2 binary.Cons (Of unary.Vi (Number (pos 3))) Nil)) ∷ []) }); post = (record { opened = []; facts = ((Rel relation.Eq (Var 0 sort.Val) (Of unary.Vi (Number (pos 0)))) ∷ []); locals = []; items = ((Data (Number (pos 64)) (Global name_g) (Of2 binary.Cons (Of unary.Vi (Number (pos 1))) Nil)) ∷ []) }) }) (record { temps = (name_s ∷ name_t ∷ name_i ∷ name_x1 ∷ name_d0 ∷ name_p1 ∷ name_q1 ∷ []); body = (c.Then (c.Set 0 (c.Const 3)) (c.Then (c.Set 1 (c.Const 0)) (c.Then (c.Set 1 (c.Binary two.Mul kind.Signed (c.Temp 1) (c.Const 2))) (c.Then (c.Store (root.Global name_g 1) c.Here (c.Binary two.Div kind.Signed (c.Const 2) (c.Const 2))) (c.Then (c.Return (Some (c.Temp 1))) c.End))))) }) (s.Then 1 (s.Set ([]) ([])) s.NoBlock (s.Then 2 (s.Set ([]) ([])) s.NoBlock (s.Then 3 (s.Store 64 ([]) ([])) s.NoBlock (s.Then 4 (s.Return ([]) ([]) ([])) s.NoBlock s.End)))) ≡ (RefusedAt 3 4 1)
unfolding computing
random_487 = refl

random_488 : body_verdict (record { predicates = ([]); specs = ((record { is_void = false; name = name_main; params = ([]); vars = []; pre = (record { opened = []; facts = ([]); locals = []; items = ((Data (Number (pos 64)) (Global name_g) (Of2 binary.Cons (Of unary.Vi (Number (pos 3))) Nil)) ∷ []) }); post = (record { opened = []; facts = ((Rel relation.Eq (Var 0 sort.Val) (Of unary.Vi (Number (pos 0)))) ∷ []); locals = []; items = ((Data (Number (pos 64)) (Global name_g) (Of2 binary.Cons (Of unary.Vi (Number (pos 1))) Nil)) ∷ []) }) }) ∷ []) }) (record { is_void = false; name = name_main; params = ([]); vars = []; pre = (record { opened = []; facts = ([]); locals = []; items = ((Data (Number (pos 64)) (Global name_g) (Of2 binary.Cons (Of unary.Vi (Number (pos 3))) Nil)) ∷ []) }); post = (record { opened = []; facts = ((Rel relation.Eq (Var 0 sort.Val) (Of unary.Vi (Number (pos 0)))) ∷ []); locals = []; items = ((Data (Number (pos 64)) (Global name_g) (Of2 binary.Cons (Of unary.Vi (Number (pos 1))) Nil)) ∷ []) }) }) (record { temps = (name_s ∷ name_t ∷ name_i ∷ name_x1 ∷ name_d0 ∷ name_p1 ∷ name_q1 ∷ []); body = (c.Then (c.Set 0 (c.Const 3)) (c.Then (c.Set 1 (c.Const 0)) (c.Then (c.Set 1 (c.Binary two.Mul kind.Signed (c.Temp 1) (c.Const 2))) (c.Then (c.Store (root.Global name_g 1) c.Here (c.Binary two.Div kind.Signed (c.Const 2) (c.Const 2))) (c.Then (c.Return (Some (c.Temp 1))) c.End))))) }) (s.Then 1 (s.Set ([]) ([])) s.NoBlock (s.Then 2 (s.Set ([]) ([])) s.NoBlock (s.Then 3 (s.Set ([]) ([])) s.NoBlock (s.Then 4 (s.Store 65 ([]) ([])) s.NoBlock (s.Then 5 (s.Return ([]) ([]) ([])) s.NoBlock s.End))))) ≡ (RefusedAt 4 4 1)
unfolding computing
random_488 = refl

random_489 : body_verdict (record { predicates = ([]); specs = ((record { is_void = false; name = name_main; params = ([]); vars = []; pre = (record { opened = []; facts = ([]); locals = []; items = ((Data (Number (pos 64)) (Global name_g) (Of2 binary.Cons (Of unary.Vi (Number (pos 3))) Nil)) ∷ []) }); post = (record { opened = []; facts = ((Rel relation.Eq (Var 0 sort.Val) (Of unary.Vi (Number (pos 0)))) ∷ []); locals = []; items = ((Data (Number (pos 64)) (Global name_g) (Of2 binary.Cons (Of unary.Vi (Number (pos 1))) Nil)) ∷ []) }) }) ∷ []) }) (record { is_void = false; name = name_main; params = ([]); vars = []; pre = (record { opened = []; facts = ([]); locals = []; items = ((Data (Number (pos 64)) (Global name_g) (Of2 binary.Cons (Of unary.Vi (Number (pos 3))) Nil)) ∷ []) }); post = (record { opened = []; facts = ((Rel relation.Eq (Var 0 sort.Val) (Of unary.Vi (Number (pos 0)))) ∷ []); locals = []; items = ((Data (Number (pos 64)) (Global name_g) (Of2 binary.Cons (Of unary.Vi (Number (pos 1))) Nil)) ∷ []) }) }) (record { temps = (name_s ∷ name_t ∷ name_i ∷ name_x1 ∷ name_d0 ∷ name_p1 ∷ name_q1 ∷ []); body = (c.Then (c.Set 0 (c.Const 3)) (c.Then (c.Set 1 (c.Const 0)) (c.Then (c.Set 1 (c.Binary two.Mul kind.Signed (c.Temp 1) (c.Const 2))) (c.Then (c.Store (root.Global name_g 1) c.Here (c.Binary two.Div kind.Signed (c.Const 2) (c.Const 2))) (c.Then (c.Return (Some (c.Temp 1))) c.End))))) }) (s.Then 1 (s.Set ([]) ([])) s.NoBlock (s.Then 2 (s.Set ([]) ([])) s.NoBlock (s.Then 3 (s.Store 0 ([]) ([])) s.NoBlock (s.Then 4 (s.Return ([]) ([]) ([])) s.NoBlock s.End)))) ≡ (RefusedAt 3 4 1)
unfolding computing
random_489 = refl

random_490 : body_verdict (record { predicates = ([]); specs = ((record { is_void = false; name = name_main; params = ([]); vars = []; pre = (record { opened = []; facts = ([]); locals = []; items = ((Data (Number (pos 64)) (Global name_g) (Of2 binary.Cons (Of unary.Vi (Number (pos 3))) Nil)) ∷ []) }); post = (record { opened = []; facts = ((Rel relation.Eq (Var 0 sort.Val) (Of unary.Vi (Number (pos 0)))) ∷ []); locals = []; items = ((Data (Number (pos 64)) (Global name_g) (Of2 binary.Cons (Of unary.Vi (Number (pos 1))) Nil)) ∷ []) }) }) ∷ []) }) (record { is_void = false; name = name_main; params = ([]); vars = []; pre = (record { opened = []; facts = ([]); locals = []; items = ((Data (Number (pos 64)) (Global name_g) (Of2 binary.Cons (Of unary.Vi (Number (pos 3))) Nil)) ∷ []) }); post = (record { opened = []; facts = ((Rel relation.Eq (Var 0 sort.Val) (Of unary.Vi (Number (pos 0)))) ∷ []); locals = []; items = ((Data (Number (pos 64)) (Global name_g) (Of2 binary.Cons (Of unary.Vi (Number (pos 1))) Nil)) ∷ []) }) }) (record { temps = (name_s ∷ name_t ∷ name_i ∷ name_x1 ∷ name_d0 ∷ name_p1 ∷ name_q1 ∷ []); body = (c.Then (c.Set 0 (c.Const 3)) (c.Then (c.Set 1 (c.Const 0)) (c.Then (c.Set 1 (c.Binary two.Mul kind.Signed (c.Temp 1) (c.Const 2))) (c.Then (c.Store (root.Global name_g 1) c.Here (c.Binary two.Div kind.Signed (c.Const 2) (c.Const 2))) (c.Then (c.Return (Some (c.Temp 1))) c.End))))) }) (s.Then 1 (s.Set ([]) ([])) s.NoBlock (s.Then 2 (s.Meet ([]) ([])) s.NoBlock (s.Then 3 (s.Set ([]) ([])) s.NoBlock (s.Then 4 (s.Store 0 ([]) ([])) s.NoBlock (s.Then 5 (s.Return ([]) ([]) ([])) s.NoBlock s.End))))) ≡ (RefusedAt 2 37 1)
unfolding computing
random_490 = refl

random_491 : body_verdict (record { predicates = ([]); specs = ((record { is_void = false; name = name_main; params = ([]); vars = []; pre = (record { opened = []; facts = ([]); locals = []; items = ((Data (Number (pos 64)) (Global name_g) (Of2 binary.Cons (Of unary.Vi (Number (pos 3))) Nil)) ∷ []) }); post = (record { opened = []; facts = ((Rel relation.Eq (Var 0 sort.Val) (Of unary.Vi (Number (pos 0)))) ∷ []); locals = []; items = ((Data (Number (pos 64)) (Global name_g) (Of2 binary.Cons (Of unary.Vi (Number (pos 1))) Nil)) ∷ []) }) }) ∷ []) }) (record { is_void = false; name = name_main; params = ([]); vars = []; pre = (record { opened = []; facts = ([]); locals = []; items = ((Data (Number (pos 64)) (Global name_g) (Of2 binary.Cons (Of unary.Vi (Number (pos 3))) Nil)) ∷ []) }); post = (record { opened = []; facts = ((Rel relation.Eq (Var 0 sort.Val) (Of unary.Vi (Number (pos 0)))) ∷ []); locals = []; items = ((Data (Number (pos 64)) (Global name_g) (Of2 binary.Cons (Of unary.Vi (Number (pos 1))) Nil)) ∷ []) }) }) (record { temps = (name_s ∷ name_t ∷ name_i ∷ name_x1 ∷ name_d0 ∷ name_p1 ∷ name_q1 ∷ []); body = (c.Then (c.Set 0 (c.Const 3)) (c.Then (c.Set 1 (c.Const 0)) (c.Then (c.Set 1 (c.Binary two.Mul kind.Signed (c.Temp 1) (c.Const 2))) (c.Then (c.Store (root.Global name_g 1) c.Here (c.Binary two.Div kind.Signed (c.Const 2) (c.Const 2))) (c.Then (c.Return (Some (c.Temp 1))) c.End))))) }) (s.Then 1 (s.Set ([]) ([])) s.NoBlock (s.Then 2 (s.Set ([]) ([])) s.NoBlock (s.Then 3 (s.Set ([]) ([])) s.NoBlock (s.Then 4 (s.Store 0 ([]) ([])) s.NoBlock (s.Then 5 (s.Store 0 ([]) ([])) s.NoBlock (s.Then 6 (s.Return ([]) ([]) ([])) s.NoBlock s.End)))))) ≡ (RefusedAt 5 4 1)
unfolding computing
random_491 = refl

random_492 : body_verdict (record { predicates = ([]); specs = ((record { is_void = false; name = name_main; params = ([]); vars = []; pre = (record { opened = []; facts = ([]); locals = []; items = ((Data (Number (pos 64)) (Global name_g) (Of2 binary.Cons (Of unary.Vi (Number (pos 3))) Nil)) ∷ []) }); post = (record { opened = []; facts = ((Rel relation.Eq (Var 0 sort.Val) (Of unary.Vi (Number (pos 0)))) ∷ []); locals = []; items = ((Data (Number (pos 64)) (Global name_g) (Of2 binary.Cons (Of unary.Vi (Number (pos 1))) Nil)) ∷ []) }) }) ∷ []) }) (record { is_void = false; name = name_main; params = ([]); vars = []; pre = (record { opened = []; facts = ([]); locals = []; items = ((Data (Number (pos 64)) (Global name_g) (Of2 binary.Cons (Of unary.Vi (Number (pos 3))) Nil)) ∷ []) }); post = (record { opened = []; facts = ((Rel relation.Eq (Var 0 sort.Val) (Of unary.Vi (Number (pos 0)))) ∷ []); locals = []; items = ((Data (Number (pos 64)) (Global name_g) (Of2 binary.Cons (Of unary.Vi (Number (pos 1))) Nil)) ∷ []) }) }) (record { temps = (name_s ∷ name_t ∷ name_i ∷ name_x1 ∷ name_d0 ∷ name_p1 ∷ name_q1 ∷ []); body = (c.Then (c.Set 0 (c.Const 3)) (c.Then (c.Set 1 (c.Const 0)) (c.Then (c.Set 1 (c.Binary two.Mul kind.Signed (c.Temp 1) (c.Const 2))) (c.Then (c.Store (root.Global name_g 1) c.Here (c.Binary two.Div kind.Signed (c.Const 2) (c.Const 2))) (c.Then (c.Return (Some (c.Temp 1))) c.End))))) }) (s.Then 1 (s.Set ([]) ([])) s.NoBlock (s.Then 2 (s.Set ([]) ([])) s.NoBlock (s.Then 3 (s.Set ([]) ([])) s.NoBlock (s.Then 4 (s.Fold name_E 0 ([]) ([]) ([])) s.NoBlock (s.Then 5 (s.Return ([]) ([]) ([])) s.NoBlock s.End))))) ≡ (RefusedAt 4 21 7)
unfolding computing
random_492 = refl

random_493 : body_verdict (record { predicates = ([]); specs = ((record { is_void = false; name = name_main; params = ([]); vars = []; pre = (record { opened = []; facts = ([]); locals = []; items = ((Data (Number (pos 64)) (Global name_g) (Of2 binary.Cons (Of unary.Vi (Number (pos 3))) Nil)) ∷ []) }); post = (record { opened = []; facts = ((Rel relation.Eq (Var 0 sort.Val) (Of unary.Vi (Number (pos 0)))) ∷ []); locals = []; items = ((Data (Number (pos 64)) (Global name_g) (Of2 binary.Cons (Of unary.Vi (Number (pos 1))) Nil)) ∷ []) }) }) ∷ []) }) (record { is_void = false; name = name_main; params = ([]); vars = []; pre = (record { opened = []; facts = ([]); locals = []; items = ((Data (Number (pos 64)) (Global name_g) (Of2 binary.Cons (Of unary.Vi (Number (pos 3))) Nil)) ∷ []) }); post = (record { opened = []; facts = ((Rel relation.Eq (Var 0 sort.Val) (Of unary.Vi (Number (pos 0)))) ∷ []); locals = []; items = ((Data (Number (pos 64)) (Global name_g) (Of2 binary.Cons (Of unary.Vi (Number (pos 1))) Nil)) ∷ []) }) }) (record { temps = (name_s ∷ name_t ∷ name_i ∷ name_x1 ∷ name_d0 ∷ name_p1 ∷ name_q1 ∷ []); body = (c.Then (c.Set 0 (c.Const 3)) (c.Then (c.Set 1 (c.Const 0)) (c.Then (c.Set 1 (c.Binary two.Mul kind.Signed (c.Temp 1) (c.Const 2))) (c.Then (c.Store (root.Global name_g 1) c.Here (c.Binary two.Div kind.Signed (c.Const 2) (c.Const 2))) (c.Then (c.Return (Some (c.Temp 1))) c.End))))) }) (s.Then 1 (s.Set ([]) ([])) s.NoBlock (s.Then 2 (s.Rewrite true 0 (occurrence.Item 0)) s.NoBlock (s.Then 3 (s.Set ([]) ([])) s.NoBlock (s.Then 4 (s.Store 0 ([]) ([])) s.NoBlock (s.Then 5 (s.Return ([]) ([]) ([])) s.NoBlock s.End))))) ≡ (RefusedAt 2 28 1)
unfolding computing
random_493 = refl

random_494 : body_verdict (record { predicates = ([]); specs = ((record { is_void = false; name = name_main; params = ([]); vars = []; pre = (record { opened = []; facts = ([]); locals = []; items = ((Data (Number (pos 64)) (Global name_g) (Of2 binary.Cons (Of unary.Vi (Number (pos 3))) Nil)) ∷ []) }); post = (record { opened = []; facts = ((Rel relation.Eq (Var 0 sort.Val) (Of unary.Vi (Number (pos 0)))) ∷ []); locals = []; items = ((Data (Number (pos 64)) (Global name_g) (Of2 binary.Cons (Of unary.Vi (Number (pos 1))) Nil)) ∷ []) }) }) ∷ []) }) (record { is_void = false; name = name_main; params = ([]); vars = []; pre = (record { opened = []; facts = ([]); locals = []; items = ((Data (Number (pos 64)) (Global name_g) (Of2 binary.Cons (Of unary.Vi (Number (pos 3))) Nil)) ∷ []) }); post = (record { opened = []; facts = ((Rel relation.Eq (Var 0 sort.Val) (Of unary.Vi (Number (pos 0)))) ∷ []); locals = []; items = ((Data (Number (pos 64)) (Global name_g) (Of2 binary.Cons (Of unary.Vi (Number (pos 1))) Nil)) ∷ []) }) }) (record { temps = (name_s ∷ name_t ∷ name_i ∷ name_x1 ∷ name_d0 ∷ name_p1 ∷ name_q1 ∷ []); body = (c.Then (c.Set 0 (c.Const 3)) (c.Then (c.Set 1 (c.Const 0)) (c.Then (c.Set 1 (c.Binary two.Mul kind.Signed (c.Temp 1) (c.Const 2))) (c.Then (c.Store (root.Global name_g 1) c.Here (c.Binary two.Div kind.Signed (c.Const 2) (c.Const 2))) (c.Then (c.Return (Some (c.Temp 1))) c.End))))) }) (s.Then 1 (s.Set ([]) ([])) s.NoBlock (s.Then 2 (s.Set ([]) ([])) s.NoBlock (s.Then 3 (s.Set ([]) ([])) s.NoBlock (s.Then 4 (s.Meet ([]) ([])) s.NoBlock (s.Then 5 (s.Store 0 ([]) ([])) s.NoBlock (s.Then 6 (s.Return ([]) ([]) ([])) s.NoBlock s.End)))))) ≡ (RefusedAt 4 37 1)
unfolding computing
random_494 = refl

random_495 : body_verdict (record { predicates = ([]); specs = ((record { is_void = false; name = name_main; params = ([]); vars = []; pre = (record { opened = []; facts = ([]); locals = []; items = ((Data (Number (pos 64)) (Global name_g) (Of2 binary.Cons (Of unary.Vi (Number (pos 3))) Nil)) ∷ []) }); post = (record { opened = []; facts = ((Rel relation.Eq (Var 0 sort.Val) (Of unary.Vi (Number (pos 0)))) ∷ []); locals = []; items = ((Data (Number (pos 64)) (Global name_g) (Of2 binary.Cons (Of unary.Vi (Number (pos 1))) Nil)) ∷ []) }) }) ∷ []) }) (record { is_void = false; name = name_main; params = ([]); vars = []; pre = (record { opened = []; facts = ([]); locals = []; items = ((Data (Number (pos 64)) (Global name_g) (Of2 binary.Cons (Of unary.Vi (Number (pos 3))) Nil)) ∷ []) }); post = (record { opened = []; facts = ((Rel relation.Eq (Var 0 sort.Val) (Of unary.Vi (Number (pos 0)))) ∷ []); locals = []; items = ((Data (Number (pos 64)) (Global name_g) (Of2 binary.Cons (Of unary.Vi (Number (pos 1))) Nil)) ∷ []) }) }) (record { temps = (name_s ∷ name_t ∷ name_i ∷ name_x1 ∷ name_d0 ∷ name_p1 ∷ name_q1 ∷ []); body = (c.Then (c.Set 0 (c.Const 3)) (c.Then (c.Set 1 (c.Const 0)) (c.Then (c.Set 1 (c.Binary two.Mul kind.Signed (c.Temp 1) (c.Const 2))) (c.Then (c.Store (root.Global name_g 1) c.Here (c.Binary two.Div kind.Signed (c.Const 2) (c.Const 2))) (c.Then (c.Return (Some (c.Temp 1))) c.End))))) }) (s.Then 1 (s.Set ([]) ([])) s.NoBlock (s.Then 2 (s.Set ([]) ([])) s.NoBlock (s.Then 3 (s.Set ([]) ([])) s.NoBlock (s.Then 4 (s.Store 3 ([]) ([])) s.NoBlock (s.Then 5 (s.Return ([]) ([]) ([])) s.NoBlock s.End))))) ≡ (RefusedAt 4 4 1)
unfolding computing
random_495 = refl

random_496 : body_verdict (record { predicates = ([]); specs = ((record { is_void = false; name = name_main; params = ([]); vars = []; pre = (record { opened = []; facts = ([]); locals = []; items = ((Data (Number (pos 64)) (Global name_g) (Of2 binary.Cons (Of unary.Vi (Number (pos 3))) Nil)) ∷ []) }); post = (record { opened = []; facts = ((Rel relation.Eq (Var 0 sort.Val) (Of unary.Vi (Number (pos 0)))) ∷ []); locals = []; items = ((Data (Number (pos 64)) (Global name_g) (Of2 binary.Cons (Of unary.Vi (Number (pos 1))) Nil)) ∷ []) }) }) ∷ []) }) (record { is_void = false; name = name_main; params = ([]); vars = []; pre = (record { opened = []; facts = ([]); locals = []; items = ((Data (Number (pos 64)) (Global name_g) (Of2 binary.Cons (Of unary.Vi (Number (pos 3))) Nil)) ∷ []) }); post = (record { opened = []; facts = ((Rel relation.Eq (Var 0 sort.Val) (Of unary.Vi (Number (pos 0)))) ∷ []); locals = []; items = ((Data (Number (pos 64)) (Global name_g) (Of2 binary.Cons (Of unary.Vi (Number (pos 1))) Nil)) ∷ []) }) }) (record { temps = (name_s ∷ name_t ∷ name_i ∷ name_x1 ∷ name_d0 ∷ name_p1 ∷ name_q1 ∷ []); body = (c.Then (c.Set 0 (c.Const 3)) (c.Then (c.Set 1 (c.Const 0)) (c.Then (c.Set 1 (c.Binary two.Mul kind.Signed (c.Temp 1) (c.Const 2))) (c.Then (c.Store (root.Global name_g 1) c.Here (c.Binary two.Div kind.Signed (c.Const 2) (c.Const 2))) (c.Then (c.Return (Some (c.Temp 1))) c.End))))) }) (s.Then 1 (s.Set ([]) ([])) s.NoBlock (s.Then 2 (s.Set ([]) ([])) s.NoBlock (s.Then 3 (s.Load 0 ([]) ([])) s.NoBlock (s.Then 4 (s.Set ([]) ([])) s.NoBlock (s.Then 5 (s.Store 0 ([]) ([])) s.NoBlock (s.Then 6 (s.Return ([]) ([]) ([])) s.NoBlock s.End)))))) ≡ (RefusedAt 3 3 1)
unfolding computing
random_496 = refl

random_497 : body_verdict (record { predicates = ([]); specs = ((record { is_void = false; name = name_main; params = ([]); vars = []; pre = (record { opened = []; facts = ([]); locals = []; items = ((Data (Number (pos 64)) (Global name_g) (Of2 binary.Cons (Of unary.Vi (Number (pos 3))) Nil)) ∷ (Data (Number (pos 64)) (Global name_arr) (Of2 binary.Cons (Of unary.Vi (Number (pos 1))) (Of2 binary.Cons (Of unary.Vi (Number (pos 2))) (Of2 binary.Cons (Of unary.Vi (Number (pos 0))) (Of2 binary.Cons (Of unary.Vi (Number (pos 0))) Nil))))) ∷ (Data (Number (pos 64)) (Global name_x) (Of2 binary.Cons (Of unary.Vi (Number (pos 3))) Nil)) ∷ []) }); post = (record { opened = (sort.List ∷ sort.List ∷ []); facts = ([]); locals = []; items = ((Data (Number (pos 64)) (Global name_g) (Var 1 sort.List)) ∷ (Data (Number (pos 64)) (Global name_arr) (Var 2 sort.List)) ∷ (Data (Number (pos 64)) (Global name_x) (Var 1 sort.List)) ∷ []) }) }) ∷ []) }) (record { is_void = false; name = name_main; params = ([]); vars = []; pre = (record { opened = []; facts = ([]); locals = []; items = ((Data (Number (pos 64)) (Global name_g) (Of2 binary.Cons (Of unary.Vi (Number (pos 3))) Nil)) ∷ (Data (Number (pos 64)) (Global name_arr) (Of2 binary.Cons (Of unary.Vi (Number (pos 1))) (Of2 binary.Cons (Of unary.Vi (Number (pos 2))) (Of2 binary.Cons (Of unary.Vi (Number (pos 0))) (Of2 binary.Cons (Of unary.Vi (Number (pos 0))) Nil))))) ∷ (Data (Number (pos 64)) (Global name_x) (Of2 binary.Cons (Of unary.Vi (Number (pos 3))) Nil)) ∷ []) }); post = (record { opened = (sort.List ∷ sort.List ∷ []); facts = ([]); locals = []; items = ((Data (Number (pos 64)) (Global name_g) (Var 1 sort.List)) ∷ (Data (Number (pos 64)) (Global name_arr) (Var 2 sort.List)) ∷ (Data (Number (pos 64)) (Global name_x) (Var 1 sort.List)) ∷ []) }) }) (record { temps = (name_s ∷ name_t ∷ name_i ∷ name_x1 ∷ name_d0 ∷ name_p1 ∷ name_q1 ∷ []); body = (c.Then (c.Set 0 (c.Const 2)) (c.Then (c.Set 1 (c.Const 2)) (c.Then (c.Set 2 (c.Const 0)) (c.Then (c.Loop (c.Then (c.If (c.Nonzero kind.Signed (c.Binary two.Lt kind.Signed (c.Temp 2) (c.Const 4))) (c.Then c.Skip (c.Then (c.Set 2 (c.Binary two.Add kind.Signed (c.Temp 2) (c.Const 1))) c.End)) (c.Then c.Break c.End)) c.End)) (c.Then (c.Return (Some (c.Const 0))) c.End))))) }) (s.Then 1 (s.Set ([]) ([])) s.NoBlock (s.Then 2 (s.Set ([]) ([])) s.NoBlock (s.Then 3 (s.Set ([]) ([])) s.NoBlock (s.Then 4 (s.While (record { opened = (sort.Int ∷ []); facts = ((Rel relation.Le (Number (pos 0)) (Var 0 sort.Int)) ∷ (Rel relation.Le (Var 0 sort.Int) (Number (pos 4))) ∷ []); locals = ((name_s, (Of unary.Vi (Number (pos 2)))) ∷ (name_t, (Of unary.Vi (Number (pos 2)))) ∷ (name_i, (Of unary.Vi (Var 0 sort.Int))) ∷ []); items = ((Data (Number (pos 64)) (Global name_g) (Of2 binary.Cons (Of unary.Vi (Number (pos 3))) Nil)) ∷ (Data (Number (pos 64)) (Global name_arr) (Of2 binary.Cons (Of unary.Vi (Number (pos 1))) (Of2 binary.Cons (Of unary.Vi (Number (pos 2))) (Of2 binary.Cons (Of unary.Vi (Number (pos 0))) (Of2 binary.Cons (Of unary.Vi (Number (pos 0))) Nil))))) ∷ (Data (Number (pos 64)) (Global name_x) (Of2 binary.Cons (Of unary.Vi (Number (pos 3))) Nil)) ∷ []) }) (record { opened = (sort.Int ∷ []); facts = ((Rel relation.Le (Number (pos 0)) (Var 0 sort.Int)) ∷ (Rel relation.Le (Var 0 sort.Int) (Number (pos 4))) ∷ (Rel relation.Le (Number (pos 4)) (Var 0 sort.Int)) ∷ []); locals = ((name_s, (Of unary.Vi (Number (pos 2)))) ∷ (name_t, (Of unary.Vi (Number (pos 2)))) ∷ (name_i, (Of unary.Vi (Var 0 sort.Int))) ∷ []); items = ((Data (Number (pos 64)) (Global name_g) (Of2 binary.Cons (Of unary.Vi (Number (pos 3))) Nil)) ∷ (Data (Number (pos 64)) (Global name_arr) (Of2 binary.Cons (Of unary.Vi (Number (pos 1))) (Of2 binary.Cons (Of unary.Vi (Number (pos 2))) (Of2 binary.Cons (Of unary.Vi (Number (pos 0))) (Of2 binary.Cons (Of unary.Vi (Number (pos 0))) Nil))))) ∷ (Data (Number (pos 64)) (Global name_x) (Of2 binary.Cons (Of unary.Vi (Number (pos 3))) Nil)) ∷ []) }) (name_k2 ∷ []) ([]) (name_k1 ∷ [])) (s.WithBlock (s.Then 5 (s.Meet ((Number (pos 0)) ∷ []) ([])) s.NoBlock s.End) (s.WithBlock (s.Then 6 (s.If ([]) ((record { lines = ((line.Comb (((pos 1), 0) ∷ ((pos 1), 2) ∷ [])) ∷ []) }) ∷ (record { lines = ((line.Comb (((pos 1), 1) ∷ ((pos 1), 2) ∷ [])) ∷ []) }) ∷ []) ([]) ([])) (s.WithBlock (s.Then 7 s.Skip s.NoBlock (s.Then 8 (s.Set ([]) ((record { lines = ((line.Comb (((pos 1), 0) ∷ ((pos 1), 3) ∷ [])) ∷ []) }) ∷ (record { lines = ((line.Comb (((pos 1), 1) ∷ ((pos 1), 3) ∷ [])) ∷ []) }) ∷ (record { lines = ((line.Comb (((pos 1), 0) ∷ ((pos 1), 3) ∷ [])) ∷ []) }) ∷ (record { lines = ((line.Comb (((pos 1), 1) ∷ ((pos 1), 3) ∷ [])) ∷ []) }) ∷ [])) s.NoBlock (s.Then 9 (s.Fall ((Of2 binary.Add (Named name_k1) (Number (pos 1))) ∷ []) ((record { lines = ((line.Comb (((pos 1), 0) ∷ ((pos 1), 3) ∷ [])) ∷ []) }) ∷ [])) s.NoBlock s.End))) (s.WithBlock (s.Then 10 (s.Break ((Named name_k1) ∷ []) ([])) s.NoBlock s.End) s.NoBlock)) s.End) s.NoBlock)) (s.Then 11 (s.Return ((Of2 binary.Cons (Of unary.Vi (Number (pos 3))) Nil) ∷ (Of2 binary.Cons (Of unary.Vi (Number (pos 1))) (Of2 binary.Cons (Of unary.Vi (Number (pos 2))) (Of2 binary.Cons (Of unary.Vi (Number (pos 0))) (Of2 binary.Cons (Of unary.Vi (Number (pos 0))) Nil)))) ∷ []) ([]) ([])) s.NoBlock s.End))))) ≡ Accepted
unfolding computing
random_497 = refl

random_498 : body_verdict (record { predicates = ([]); specs = ((record { is_void = false; name = name_main; params = ([]); vars = []; pre = (record { opened = []; facts = ([]); locals = []; items = ((Data (Number (pos 64)) (Global name_g) (Of2 binary.Cons (Of unary.Vi (Number (pos 3))) Nil)) ∷ (Data (Number (pos 64)) (Global name_arr) (Of2 binary.Cons (Of unary.Vi (Number (pos 1))) (Of2 binary.Cons (Of unary.Vi (Number (pos 2))) (Of2 binary.Cons (Of unary.Vi (Number (pos 0))) (Of2 binary.Cons (Of unary.Vi (Number (pos 0))) Nil))))) ∷ (Data (Number (pos 64)) (Global name_x) (Of2 binary.Cons (Of unary.Vi (Number (pos 3))) Nil)) ∷ []) }); post = (record { opened = (sort.List ∷ sort.List ∷ []); facts = ([]); locals = []; items = ((Data (Number (pos 64)) (Global name_g) (Var 1 sort.List)) ∷ (Data (Number (pos 64)) (Global name_arr) (Var 2 sort.List)) ∷ (Data (Number (pos 64)) (Global name_x) (Var 1 sort.List)) ∷ []) }) }) ∷ []) }) (record { is_void = false; name = name_main; params = ([]); vars = []; pre = (record { opened = []; facts = ([]); locals = []; items = ((Data (Number (pos 64)) (Global name_g) (Of2 binary.Cons (Of unary.Vi (Number (pos 3))) Nil)) ∷ (Data (Number (pos 64)) (Global name_arr) (Of2 binary.Cons (Of unary.Vi (Number (pos 1))) (Of2 binary.Cons (Of unary.Vi (Number (pos 2))) (Of2 binary.Cons (Of unary.Vi (Number (pos 0))) (Of2 binary.Cons (Of unary.Vi (Number (pos 0))) Nil))))) ∷ (Data (Number (pos 64)) (Global name_x) (Of2 binary.Cons (Of unary.Vi (Number (pos 3))) Nil)) ∷ []) }); post = (record { opened = (sort.List ∷ sort.List ∷ []); facts = ([]); locals = []; items = ((Data (Number (pos 64)) (Global name_g) (Var 1 sort.List)) ∷ (Data (Number (pos 64)) (Global name_arr) (Var 2 sort.List)) ∷ (Data (Number (pos 64)) (Global name_x) (Var 1 sort.List)) ∷ []) }) }) (record { temps = (name_s ∷ name_t ∷ name_i ∷ name_x1 ∷ name_d0 ∷ name_p1 ∷ name_q1 ∷ []); body = (c.Then (c.Set 0 (c.Const 2)) (c.Then (c.Set 1 (c.Const 2)) (c.Then (c.Set 2 (c.Const 3)) (c.Then (c.Loop (c.Then (c.If (c.Nonzero kind.Signed (c.Binary two.Lt kind.Signed (c.Temp 2) (c.Const 4))) (c.Then c.Skip (c.Then (c.Set 2 (c.Binary two.Add kind.Signed (c.Temp 2) (c.Const 1))) c.End)) (c.Then c.Break c.End)) c.End)) (c.Then (c.Return (Some (c.Const 0))) c.End))))) }) (s.Then 1 (s.Set ([]) ([])) s.NoBlock (s.Then 2 (s.Set ([]) ([])) s.NoBlock (s.Then 3 (s.Set ([]) ([])) s.NoBlock (s.Then 4 (s.While (record { opened = (sort.Int ∷ []); facts = ((Rel relation.Le (Number (pos 0)) (Var 0 sort.Int)) ∷ (Rel relation.Le (Var 0 sort.Int) (Number (pos 4))) ∷ []); locals = ((name_s, (Of unary.Vi (Number (pos 2)))) ∷ (name_t, (Of unary.Vi (Number (pos 2)))) ∷ (name_i, (Of unary.Vi (Var 0 sort.Int))) ∷ []); items = ((Data (Number (pos 64)) (Global name_g) (Of2 binary.Cons (Of unary.Vi (Number (pos 3))) Nil)) ∷ (Data (Number (pos 64)) (Global name_arr) (Of2 binary.Cons (Of unary.Vi (Number (pos 1))) (Of2 binary.Cons (Of unary.Vi (Number (pos 2))) (Of2 binary.Cons (Of unary.Vi (Number (pos 0))) (Of2 binary.Cons (Of unary.Vi (Number (pos 0))) Nil))))) ∷ (Data (Number (pos 64)) (Global name_x) (Of2 binary.Cons (Of unary.Vi (Number (pos 3))) Nil)) ∷ []) }) (record { opened = (sort.Int ∷ []); facts = ((Rel relation.Le (Number (pos 0)) (Var 0 sort.Int)) ∷ (Rel relation.Le (Var 0 sort.Int) (Number (pos 4))) ∷ (Rel relation.Le (Number (pos 4)) (Var 0 sort.Int)) ∷ []); locals = ((name_s, (Of unary.Vi (Number (pos 2)))) ∷ (name_t, (Of unary.Vi (Number (pos 2)))) ∷ (name_i, (Of unary.Vi (Var 0 sort.Int))) ∷ []); items = ((Data (Number (pos 64)) (Global name_g) (Of2 binary.Cons (Of unary.Vi (Number (pos 3))) Nil)) ∷ (Data (Number (pos 64)) (Global name_arr) (Of2 binary.Cons (Of unary.Vi (Number (pos 1))) (Of2 binary.Cons (Of unary.Vi (Number (pos 2))) (Of2 binary.Cons (Of unary.Vi (Number (pos 0))) (Of2 binary.Cons (Of unary.Vi (Number (pos 0))) Nil))))) ∷ (Data (Number (pos 64)) (Global name_x) (Of2 binary.Cons (Of unary.Vi (Number (pos 3))) Nil)) ∷ []) }) (name_k2 ∷ []) ([]) (name_k1 ∷ [])) (s.WithBlock (s.Then 5 (s.Meet ((Number (pos 0)) ∷ []) ([])) s.NoBlock s.End) (s.WithBlock (s.Then 6 (s.If ([]) ((record { lines = ((line.Comb (((pos 1), 0) ∷ ((pos 1), 2) ∷ [])) ∷ []) }) ∷ (record { lines = ((line.Comb (((pos 1), 1) ∷ ((pos 1), 2) ∷ [])) ∷ []) }) ∷ []) ([]) ([])) (s.WithBlock (s.Then 7 s.Skip s.NoBlock (s.Then 8 (s.Set ([]) ((record { lines = ((line.Comb (((pos 1), 0) ∷ ((pos 1), 3) ∷ [])) ∷ []) }) ∷ (record { lines = ((line.Comb (((pos 1), 1) ∷ ((pos 1), 3) ∷ [])) ∷ []) }) ∷ (record { lines = ((line.Comb (((pos 1), 0) ∷ ((pos 1), 3) ∷ [])) ∷ []) }) ∷ (record { lines = ((line.Comb (((pos 1), 1) ∷ ((pos 1), 3) ∷ [])) ∷ []) }) ∷ [])) s.NoBlock (s.Then 9 (s.Fall ((Of2 binary.Add (Named name_k1) (Number (pos 1))) ∷ []) ((record { lines = ((line.Comb (((pos 1), 0) ∷ ((pos 1), 3) ∷ [])) ∷ []) }) ∷ [])) s.NoBlock s.End))) (s.WithBlock (s.Then 10 (s.Break ((Named name_k1) ∷ []) ([])) s.NoBlock s.End) s.NoBlock)) s.End) s.NoBlock)) (s.Then 11 (s.Return ((Of2 binary.Cons (Of unary.Vi (Number (pos 3))) Nil) ∷ (Of2 binary.Cons (Of unary.Vi (Number (pos 1))) (Of2 binary.Cons (Of unary.Vi (Number (pos 2))) (Of2 binary.Cons (Of unary.Vi (Number (pos 0))) (Of2 binary.Cons (Of unary.Vi (Number (pos 0))) Nil)))) ∷ []) ([]) ([])) s.NoBlock s.End))))) ≡ (RefusedAt 5 37 4)
unfolding computing
random_498 = refl

random_499 : body_verdict (record { predicates = ([]); specs = ((record { is_void = false; name = name_main; params = ([]); vars = []; pre = (record { opened = []; facts = ([]); locals = []; items = ((Data (Number (pos 64)) (Global name_g) (Of2 binary.Cons (Of unary.Vi (Number (pos 3))) Nil)) ∷ (Data (Number (pos 64)) (Global name_arr) (Of2 binary.Cons (Of unary.Vi (Number (pos 1))) (Of2 binary.Cons (Of unary.Vi (Number (pos 2))) (Of2 binary.Cons (Of unary.Vi (Number (pos 0))) (Of2 binary.Cons (Of unary.Vi (Number (pos 0))) Nil))))) ∷ (Data (Number (pos 64)) (Global name_x) (Of2 binary.Cons (Of unary.Vi (Number (pos 3))) Nil)) ∷ []) }); post = (record { opened = (sort.List ∷ sort.List ∷ []); facts = ([]); locals = []; items = ((Data (Number (pos 64)) (Global name_g) (Var 1 sort.List)) ∷ (Data (Number (pos 64)) (Global name_arr) (Var 2 sort.List)) ∷ (Data (Number (pos 64)) (Global name_x) (Var 1 sort.List)) ∷ []) }) }) ∷ []) }) (record { is_void = false; name = name_main; params = ([]); vars = []; pre = (record { opened = []; facts = ([]); locals = []; items = ((Data (Number (pos 64)) (Global name_g) (Of2 binary.Cons (Of unary.Vi (Number (pos 3))) Nil)) ∷ (Data (Number (pos 64)) (Global name_arr) (Of2 binary.Cons (Of unary.Vi (Number (pos 1))) (Of2 binary.Cons (Of unary.Vi (Number (pos 2))) (Of2 binary.Cons (Of unary.Vi (Number (pos 0))) (Of2 binary.Cons (Of unary.Vi (Number (pos 0))) Nil))))) ∷ (Data (Number (pos 64)) (Global name_x) (Of2 binary.Cons (Of unary.Vi (Number (pos 3))) Nil)) ∷ []) }); post = (record { opened = (sort.List ∷ sort.List ∷ []); facts = ([]); locals = []; items = ((Data (Number (pos 64)) (Global name_g) (Var 1 sort.List)) ∷ (Data (Number (pos 64)) (Global name_arr) (Var 2 sort.List)) ∷ (Data (Number (pos 64)) (Global name_x) (Var 1 sort.List)) ∷ []) }) }) (record { temps = (name_s ∷ name_t ∷ name_i ∷ name_x1 ∷ name_d0 ∷ name_p1 ∷ name_q1 ∷ []); body = (c.Then (c.Set 0 (c.Const 2)) (c.Then (c.Set 1 (c.Const 2)) (c.Then (c.Set 2 (c.Const 0)) (c.Then (c.Loop (c.Then (c.If (c.Nonzero kind.Signed (c.Binary two.Lt kind.Signed (c.Temp 2) (c.Const 31))) (c.Then c.Skip (c.Then (c.Set 2 (c.Binary two.Add kind.Signed (c.Temp 2) (c.Const 1))) c.End)) (c.Then c.Break c.End)) c.End)) (c.Then (c.Return (Some (c.Const 0))) c.End))))) }) (s.Then 1 (s.Set ([]) ([])) s.NoBlock (s.Then 2 (s.Set ([]) ([])) s.NoBlock (s.Then 3 (s.Set ([]) ([])) s.NoBlock (s.Then 4 (s.While (record { opened = (sort.Int ∷ []); facts = ((Rel relation.Le (Number (pos 0)) (Var 0 sort.Int)) ∷ (Rel relation.Le (Var 0 sort.Int) (Number (pos 4))) ∷ []); locals = ((name_s, (Of unary.Vi (Number (pos 2)))) ∷ (name_t, (Of unary.Vi (Number (pos 2)))) ∷ (name_i, (Of unary.Vi (Var 0 sort.Int))) ∷ []); items = ((Data (Number (pos 64)) (Global name_g) (Of2 binary.Cons (Of unary.Vi (Number (pos 3))) Nil)) ∷ (Data (Number (pos 64)) (Global name_arr) (Of2 binary.Cons (Of unary.Vi (Number (pos 1))) (Of2 binary.Cons (Of unary.Vi (Number (pos 2))) (Of2 binary.Cons (Of unary.Vi (Number (pos 0))) (Of2 binary.Cons (Of unary.Vi (Number (pos 0))) Nil))))) ∷ (Data (Number (pos 64)) (Global name_x) (Of2 binary.Cons (Of unary.Vi (Number (pos 3))) Nil)) ∷ []) }) (record { opened = (sort.Int ∷ []); facts = ((Rel relation.Le (Number (pos 0)) (Var 0 sort.Int)) ∷ (Rel relation.Le (Var 0 sort.Int) (Number (pos 4))) ∷ (Rel relation.Le (Number (pos 4)) (Var 0 sort.Int)) ∷ []); locals = ((name_s, (Of unary.Vi (Number (pos 2)))) ∷ (name_t, (Of unary.Vi (Number (pos 2)))) ∷ (name_i, (Of unary.Vi (Var 0 sort.Int))) ∷ []); items = ((Data (Number (pos 64)) (Global name_g) (Of2 binary.Cons (Of unary.Vi (Number (pos 3))) Nil)) ∷ (Data (Number (pos 64)) (Global name_arr) (Of2 binary.Cons (Of unary.Vi (Number (pos 1))) (Of2 binary.Cons (Of unary.Vi (Number (pos 2))) (Of2 binary.Cons (Of unary.Vi (Number (pos 0))) (Of2 binary.Cons (Of unary.Vi (Number (pos 0))) Nil))))) ∷ (Data (Number (pos 64)) (Global name_x) (Of2 binary.Cons (Of unary.Vi (Number (pos 3))) Nil)) ∷ []) }) (name_k2 ∷ []) ([]) (name_k1 ∷ [])) (s.WithBlock (s.Then 5 (s.Meet ((Number (pos 0)) ∷ []) ([])) s.NoBlock s.End) (s.WithBlock (s.Then 6 (s.If ([]) ((record { lines = ((line.Comb (((pos 1), 0) ∷ ((pos 1), 2) ∷ [])) ∷ []) }) ∷ (record { lines = ((line.Comb (((pos 1), 1) ∷ ((pos 1), 2) ∷ [])) ∷ []) }) ∷ []) ([]) ([])) (s.WithBlock (s.Then 7 s.Skip s.NoBlock (s.Then 8 (s.Set ([]) ((record { lines = ((line.Comb (((pos 1), 0) ∷ ((pos 1), 3) ∷ [])) ∷ []) }) ∷ (record { lines = ((line.Comb (((pos 1), 1) ∷ ((pos 1), 3) ∷ [])) ∷ []) }) ∷ (record { lines = ((line.Comb (((pos 1), 0) ∷ ((pos 1), 3) ∷ [])) ∷ []) }) ∷ (record { lines = ((line.Comb (((pos 1), 1) ∷ ((pos 1), 3) ∷ [])) ∷ []) }) ∷ [])) s.NoBlock (s.Then 9 (s.Fall ((Of2 binary.Add (Named name_k1) (Number (pos 1))) ∷ []) ((record { lines = ((line.Comb (((pos 1), 0) ∷ ((pos 1), 3) ∷ [])) ∷ []) }) ∷ [])) s.NoBlock s.End))) (s.WithBlock (s.Then 10 (s.Break ((Named name_k1) ∷ []) ([])) s.NoBlock s.End) s.NoBlock)) s.End) s.NoBlock)) (s.Then 11 (s.Return ((Of2 binary.Cons (Of unary.Vi (Number (pos 3))) Nil) ∷ (Of2 binary.Cons (Of unary.Vi (Number (pos 1))) (Of2 binary.Cons (Of unary.Vi (Number (pos 2))) (Of2 binary.Cons (Of unary.Vi (Number (pos 0))) (Of2 binary.Cons (Of unary.Vi (Number (pos 0))) Nil)))) ∷ []) ([]) ([])) s.NoBlock s.End))))) ≡ (RefusedAt 9 10 3)
unfolding computing
random_499 = refl

random_500 : body_verdict (record { predicates = ([]); specs = ((record { is_void = false; name = name_main; params = ([]); vars = []; pre = (record { opened = []; facts = ([]); locals = []; items = ((Data (Number (pos 64)) (Global name_g) (Of2 binary.Cons (Of unary.Vi (Number (pos 3))) Nil)) ∷ (Data (Number (pos 64)) (Global name_arr) (Of2 binary.Cons (Of unary.Vi (Number (pos 1))) (Of2 binary.Cons (Of unary.Vi (Number (pos 2))) (Of2 binary.Cons (Of unary.Vi (Number (pos 0))) (Of2 binary.Cons (Of unary.Vi (Number (pos 0))) Nil))))) ∷ (Data (Number (pos 64)) (Global name_x) (Of2 binary.Cons (Of unary.Vi (Number (pos 3))) Nil)) ∷ []) }); post = (record { opened = (sort.List ∷ sort.List ∷ []); facts = ([]); locals = []; items = ((Data (Number (pos 64)) (Global name_g) (Var 1 sort.List)) ∷ (Data (Number (pos 64)) (Global name_arr) (Var 2 sort.List)) ∷ (Data (Number (pos 64)) (Global name_x) (Var 1 sort.List)) ∷ []) }) }) ∷ []) }) (record { is_void = false; name = name_main; params = ([]); vars = []; pre = (record { opened = []; facts = ([]); locals = []; items = ((Data (Number (pos 64)) (Global name_g) (Of2 binary.Cons (Of unary.Vi (Number (pos 3))) Nil)) ∷ (Data (Number (pos 64)) (Global name_arr) (Of2 binary.Cons (Of unary.Vi (Number (pos 1))) (Of2 binary.Cons (Of unary.Vi (Number (pos 2))) (Of2 binary.Cons (Of unary.Vi (Number (pos 0))) (Of2 binary.Cons (Of unary.Vi (Number (pos 0))) Nil))))) ∷ (Data (Number (pos 64)) (Global name_x) (Of2 binary.Cons (Of unary.Vi (Number (pos 3))) Nil)) ∷ []) }); post = (record { opened = (sort.List ∷ sort.List ∷ []); facts = ([]); locals = []; items = ((Data (Number (pos 64)) (Global name_g) (Var 1 sort.List)) ∷ (Data (Number (pos 64)) (Global name_arr) (Var 2 sort.List)) ∷ (Data (Number (pos 64)) (Global name_x) (Var 1 sort.List)) ∷ []) }) }) (record { temps = (name_s ∷ name_t ∷ name_i ∷ name_x1 ∷ name_d0 ∷ name_p1 ∷ name_q1 ∷ []); body = (c.Then (c.Set 0 (c.Const 2)) (c.Then (c.Set 1 (c.Const 2)) (c.Then (c.Set 2 (c.Const 0)) (c.Then (c.Loop (c.Then (c.If (c.Nonzero kind.Signed (c.Binary two.Lt kind.Signed (c.Temp 2) (c.Const 4))) (c.Then c.Skip (c.Then (c.Set 2 (c.Binary two.Add kind.Signed (c.Temp 2) (c.Const 1))) c.End)) (c.Then c.Break c.End)) c.End)) (c.Then (c.Return (Some (c.Const 0))) c.End))))) }) (s.Then 1 (s.Set ([]) ([])) s.NoBlock (s.Then 2 (s.Set ([]) ([])) s.NoBlock (s.Then 3 (s.Set ([]) ([])) s.NoBlock (s.Then 4 (s.While (record { opened = (sort.Int ∷ []); facts = ((Rel relation.Le (Number (pos 0)) (Var 0 sort.Int)) ∷ (Rel relation.Le (Var 0 sort.Int) (Number (pos 4))) ∷ []); locals = ((name_s, (Of unary.Vi (Number (pos 2)))) ∷ (name_t, (Of unary.Vi (Number (pos 2)))) ∷ (name_i, (Of unary.Vi (Var 0 sort.Int))) ∷ []); items = ((Data (Number (pos 64)) (Global name_g) (Of2 binary.Cons (Of unary.Vi (Number (pos 3))) Nil)) ∷ (Data (Number (pos 64)) (Global name_arr) (Of2 binary.Cons (Of unary.Vi (Number (pos 1))) (Of2 binary.Cons (Of unary.Vi (Number (pos 2))) (Of2 binary.Cons (Of unary.Vi (Number (pos 0))) (Of2 binary.Cons (Of unary.Vi (Number (pos 0))) Nil))))) ∷ (Data (Number (pos 64)) (Global name_x) (Of2 binary.Cons (Of unary.Vi (Number (pos 3))) Nil)) ∷ []) }) (record { opened = (sort.Int ∷ []); facts = ((Rel relation.Le (Number (pos 0)) (Var 0 sort.Int)) ∷ (Rel relation.Le (Var 0 sort.Int) (Number (pos 4))) ∷ (Rel relation.Le (Number (pos 4)) (Var 0 sort.Int)) ∷ []); locals = ((name_s, (Of unary.Vi (Number (pos 2)))) ∷ (name_t, (Of unary.Vi (Number (pos 2)))) ∷ (name_i, (Of unary.Vi (Var 0 sort.Int))) ∷ []); items = ((Data (Number (pos 64)) (Global name_g) (Of2 binary.Cons (Of unary.Vi (Number (pos 3))) Nil)) ∷ (Data (Number (pos 64)) (Global name_arr) (Of2 binary.Cons (Of unary.Vi (Number (pos 1))) (Of2 binary.Cons (Of unary.Vi (Number (pos 2))) (Of2 binary.Cons (Of unary.Vi (Number (pos 0))) (Of2 binary.Cons (Of unary.Vi (Number (pos 0))) Nil))))) ∷ (Data (Number (pos 64)) (Global name_x) (Of2 binary.Cons (Of unary.Vi (Number (pos 3))) Nil)) ∷ []) }) (name_k2 ∷ []) ([]) (name_k1 ∷ [])) (s.WithBlock (s.Then 5 (s.Meet ((Number (pos 0)) ∷ []) ([])) s.NoBlock s.End) (s.WithBlock (s.Then 6 (s.If ([]) ((record { lines = ((line.Comb (((pos 1), 0) ∷ ((pos 1), 2) ∷ [])) ∷ []) }) ∷ (record { lines = ((line.Comb (((pos 1), 1) ∷ ((pos 1), 2) ∷ [])) ∷ []) }) ∷ []) ([]) ([])) (s.WithBlock (s.Then 7 s.Skip s.NoBlock (s.Then 8 (s.Set ([]) ((record { lines = ((line.Comb (((pos 1), 0) ∷ ((pos 1), 3) ∷ [])) ∷ []) }) ∷ (record { lines = ((line.Comb (((pos 1), 1) ∷ ((pos 1), 3) ∷ [])) ∷ []) }) ∷ (record { lines = ((line.Comb (((pos 1), 0) ∷ ((pos 1), 3) ∷ [])) ∷ []) }) ∷ (record { lines = ((line.Comb (((pos 1), 1) ∷ ((pos 1), 3) ∷ [])) ∷ []) }) ∷ [])) s.NoBlock (s.Then 9 (s.Fall ((Of2 binary.Add (Named name_k1) (Number (pos 1))) ∷ []) ((record { lines = ((line.Comb (((pos 1), 0) ∷ ((pos 1), 3) ∷ [])) ∷ []) }) ∷ [])) s.NoBlock s.End))) (s.WithBlock (s.Then 10 (s.Break ((Named name_k1) ∷ []) ([])) s.NoBlock s.End) s.NoBlock)) s.End) s.NoBlock)) (s.Then 11 (s.Set ([]) ((record { lines = ((line.Comb (((pos 1), 0) ∷ ((pos 1), 3) ∷ [])) ∷ []) }) ∷ (record { lines = ((line.Comb (((pos 1), 1) ∷ ((pos 1), 3) ∷ [])) ∷ []) }) ∷ (record { lines = ((line.Comb (((pos 1), 0) ∷ ((pos 1), 3) ∷ [])) ∷ []) }) ∷ (record { lines = ((line.Comb (((pos 1), 1) ∷ ((pos 1), 3) ∷ [])) ∷ []) }) ∷ [])) s.NoBlock (s.Then 12 (s.Return ((Of2 binary.Cons (Of unary.Vi (Number (pos 3))) Nil) ∷ (Of2 binary.Cons (Of unary.Vi (Number (pos 1))) (Of2 binary.Cons (Of unary.Vi (Number (pos 2))) (Of2 binary.Cons (Of unary.Vi (Number (pos 0))) (Of2 binary.Cons (Of unary.Vi (Number (pos 0))) Nil)))) ∷ []) ([]) ([])) s.NoBlock s.End)))))) ≡ (RefusedAt 11 2 1)
unfolding computing
random_500 = refl
