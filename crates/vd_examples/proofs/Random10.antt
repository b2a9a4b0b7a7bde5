-- Random works.
use Rattle.std.specs.Prelude.{◌≡◌, refl, pos, [], ◌∷◌, true, false, Some, None}
use Rattle.vd_terms.specs.Terms.{Number, Var, Named, Global, Undef, Nil, Of, Of2, Of3}
use Rattle.vd_terms.specs.declared.assertion.FactOf.TheVariants.{Rel, IsInt}
use Rattle.vd_terms.specs.declared.assertion.ItemOf.TheVariants.{Data, Lock, Pred}
use Rattle.vd_rules.specs.Computing.{computing}
use Rattle.vd_rules.specs.Verdicts.{Accepted, RefusedAt, body_verdict, init_verdict}
use Rattle.vd_terms.specs.declared.operation.Unary.TheVariants as unary
use Rattle.vd_terms.specs.declared.operation.Binary.TheVariants as binary
use Rattle.vd_terms.specs.declared.operation.Ternary.TheVariants as ternary
use Rattle.vd_logic.specs.declared.term.Sort.TheVariants as sort
use Rattle.vd_logic.specs.declared.assertion.Rel.TheVariants as relation
use Rattle.vd_logic.specs.declared.step.CertLine.TheVariants as line
use Rattle.vd_logic.specs.declared.step.Occurrence.TheVariants as occurrence
use Rattle.vd_clight.specs.declared.syntax.BinOp.TheVariants as two
use Rattle.vd_clight.specs.declared.typed.Kind.TheVariants as kind
use Rattle.vd_clight.specs.declared.typed.Root.TheVariants as root
use Rattle.vd_clight.specs.declared.typed.LockOp.TheVariants as lock
use Rattle.vd_steps.specs.Code as c
use Rattle.vd_steps.specs.Script as s
use Rattle.vd_examples.specs.Names.{name_E, name_a, name_a0, name_a2, name_arr, name_b, name_b1, name_c, name_d0, name_f, name_g, name_h0, name_h1, name_h2, name_i, name_iv, name_k, name_k1, name_k2, name_k3, name_k4, name_l, name_len_upd, name_m, name_main, name_n, name_n0, name_n2, name_nop, name_o, name_o0, name_ov, name_p, name_p00, name_p1, name_pos, name_ptr_null, name_put, name_q0, name_q1, name_q2, name_s, name_s0, name_s1, name_s2, name_sub_one, name_t, name_u1, name_v, name_v0, name_w, name_w0, name_w1, name_w2, name_x, name_x1, name_y, name_z, name_zz}

random_901 : body_verdict (record { predicates = ((record { name = name_ov; args = ([]); cases = ((record { opened = (sort.Val ∷ []); facts = ([]); locals = []; items = ((Data (Number (pos 64)) (Global name_x) (Of2 binary.Cons (Var 0 sort.Val) Nil)) ∷ []) }) ∷ []) }) ∷ []); specs = ((record { is_void = true; name = name_nop; params = ([]); vars = []; pre = (record { opened = []; facts = ([]); locals = []; items = ([]) }); post = (record { opened = []; facts = ([]); locals = []; items = ([]) }) }) ∷ (record { is_void = false; name = name_pos; params = (name_n ∷ []); vars = ((name_a, sort.Int) ∷ []); pre = (record { opened = []; facts = ((Rel relation.Le (Number (pos 0)) (Var 0 sort.Int)) ∷ (Rel relation.Le (Var 0 sort.Int) (Number (pos 100))) ∷ []); locals = ((name_n, (Of unary.Vi (Var 0 sort.Int))) ∷ []); items = ([]) }); post = (record { opened = (sort.Int ∷ []); facts = ((Rel relation.Eq (Var 1 sort.Val) (Of unary.Vi (Var 2 sort.Int))) ∷ (Rel relation.Le (Number (pos 0)) (Var 2 sort.Int)) ∷ (Rel relation.Le (Var 2 sort.Int) (Var 0 sort.Int)) ∷ []); locals = []; items = ([]) }) }) ∷ (record { is_void = false; name = name_main; params = ([]); vars = []; pre = (record { opened = []; facts = ([]); locals = []; items = ((Data (Number (pos 64)) (Global name_arr) (Of2 binary.Cons (Of unary.Vi (Number (pos 1))) (Of2 binary.Cons (Of unary.Vi (Number (pos 2))) (Of2 binary.Cons (Of unary.Vi (Number (pos 0))) (Of2 binary.Cons (Of unary.Vi (Number (pos 0))) Nil))))) ∷ (Data (Number (pos 64)) (Global name_x) (Of2 binary.Cons (Of unary.Vi (Number (pos 3))) Nil)) ∷ (Data (Number (pos 64)) (Global name_l) (Of2 binary.Cons (Of unary.Vi (Number (pos 0))) Nil)) ∷ []) }); post = (record { opened = (sort.List ∷ []); facts = ([]); locals = []; items = ((Data (Number (pos 64)) (Global name_arr) (Of2 binary.Cons (Of unary.Vi (Number (pos 1))) (Of2 binary.Cons (Of unary.Vi (Number (pos 2))) (Of2 binary.Cons (Of unary.Vi (Number (pos 0))) (Of2 binary.Cons (Of unary.Vi (Number (pos 0))) Nil))))) ∷ (Data (Number (pos 64)) (Global name_x) (Var 1 sort.List)) ∷ (Data (Number (pos 64)) (Global name_l) (Of2 binary.Cons Undef Nil)) ∷ []) }) }) ∷ []) }) (record { is_void = false; name = name_main; params = ([]); vars = []; pre = (record { opened = []; facts = ([]); locals = []; items = ((Data (Number (pos 64)) (Global name_arr) (Of2 binary.Cons (Of unary.Vi (Number (pos 1))) (Of2 binary.Cons (Of unary.Vi (Number (pos 2))) (Of2 binary.Cons (Of unary.Vi (Number (pos 0))) (Of2 binary.Cons (Of unary.Vi (Number (pos 0))) Nil))))) ∷ (Data (Number (pos 64)) (Global name_x) (Of2 binary.Cons (Of unary.Vi (Number (pos 3))) Nil)) ∷ (Data (Number (pos 64)) (Global name_l) (Of2 binary.Cons (Of unary.Vi (Number (pos 0))) Nil)) ∷ []) }); post = (record { opened = (sort.List ∷ []); facts = ([]); locals = []; items = ((Data (Number (pos 64)) (Global name_arr) (Of2 binary.Cons (Of unary.Vi (Number (pos 1))) (Of2 binary.Cons (Of unary.Vi (Number (pos 2))) (Of2 binary.Cons (Of unary.Vi (Number (pos 0))) (Of2 binary.Cons (Of unary.Vi (Number (pos 0))) Nil))))) ∷ (Data (Number (pos 64)) (Global name_x) (Var 1 sort.List)) ∷ (Data (Number (pos 64)) (Global name_l) (Of2 binary.Cons Undef Nil)) ∷ []) }) }) (record { temps = (name_s ∷ name_t ∷ name_i ∷ name_x1 ∷ name_d0 ∷ name_p1 ∷ name_q1 ∷ []); body = (c.Then (c.Set 0 (c.Const 0)) (c.Then (c.OnLock lock.Make (c.Address (root.Global name_l 1) c.Here)) (c.Then (c.OnLock lock.Release (c.Address (root.Global name_l 1) c.Here)) (c.Then (c.Load 1 (root.Global name_arr 4) (c.Index kind.Signed (c.Const 1) c.Here)) (c.Then (c.Call None name_nop ([])) (c.Then (c.Call (Some 1) name_pos ((c.Const 3) ∷ [])) (c.Then (c.OnLock lock.Acquire (c.Address (root.Global name_l 1) c.Here)) (c.Then (c.Load 1 (root.Global name_x 1) c.Here) (c.Then (c.Store (root.Global name_x 1) c.Here (c.Temp 1)) (c.Then (c.OnLock lock.Release (c.Address (root.Global name_l 1) c.Here)) (c.Then (c.OnLock lock.Acquire (c.Address (root.Global name_l 1) c.Here)) (c.Then (c.OnLock lock.Free (c.Address (root.Global name_l 1) c.Here)) (c.Then (c.Return (Some (c.Temp 1))) c.End))))))))))))) }) (s.Then 1 (s.Set ([]) ([])) s.NoBlock (s.Then 2 (s.MakeLock 2 (record { name = name_ov; args = ([]) }) ([]) ([])) s.NoBlock (s.Then 3 (s.Fold name_ov 0 ([]) ((Of unary.Vi (Number (pos 3))) ∷ []) ([])) s.NoBlock (s.Then 4 (s.Fold name_ov 0 ([]) ((Of unary.Vi (Number (pos 2))) ∷ []) ([])) s.NoBlock (s.Then 5 (s.Release 2 3 ([])) s.NoBlock (s.Then 6 (s.Load 0 ([]) ([])) s.NoBlock (s.Then 7 (s.Call ([]) ([]) ([]) ([])) s.NoBlock (s.Then 8 (s.Call ((Number (pos 3)) ∷ []) ([]) ([]) (name_k1 ∷ name_k2 ∷ [])) s.NoBlock (s.Then 9 (s.Acquire 1 ([])) s.NoBlock (s.Then 10 (s.Unfold 3 ((name_k3 ∷ []) ∷ [])) (s.WithBlock (s.Then 11 (s.Load 3 ([]) ([])) s.NoBlock (s.Then 12 (s.Store 3 ([]) ([])) s.NoBlock (s.Then 13 (s.Fold name_ov 0 ([]) ((Named name_k3) ∷ []) ([])) s.NoBlock (s.Then 14 (s.Release 2 3 ([])) s.NoBlock (s.Then 15 (s.Acquire 1 ([])) s.NoBlock (s.Then 16 (s.Unfold 3 ((name_k4 ∷ []) ∷ [])) (s.WithBlock (s.Then 17 (s.FreeLock 1 2 ([]) ([])) s.NoBlock (s.Then 18 (s.Return ((Of2 binary.Cons (Named name_k4) Nil) ∷ []) ([]) ([])) s.NoBlock s.End)) s.NoBlock) s.End)))))) s.NoBlock) s.End)))))))))) ≡ (RefusedAt 4 21 5)
unfolding computing
random_901 = refl

random_902 : body_verdict (record { predicates = ((record { name = name_ov; args = ([]); cases = ((record { opened = (sort.Val ∷ []); facts = ([]); locals = []; items = ((Data (Number (pos 64)) (Global name_x) (Of2 binary.Cons (Var 0 sort.Val) Nil)) ∷ []) }) ∷ []) }) ∷ []); specs = ((record { is_void = true; name = name_nop; params = ([]); vars = []; pre = (record { opened = []; facts = ([]); locals = []; items = ([]) }); post = (record { opened = []; facts = ([]); locals = []; items = ([]) }) }) ∷ (record { is_void = false; name = name_pos; params = (name_n ∷ []); vars = ((name_a, sort.Int) ∷ []); pre = (record { opened = []; facts = ((Rel relation.Le (Number (pos 0)) (Var 0 sort.Int)) ∷ (Rel relation.Le (Var 0 sort.Int) (Number (pos 100))) ∷ []); locals = ((name_n, (Of unary.Vi (Var 0 sort.Int))) ∷ []); items = ([]) }); post = (record { opened = (sort.Int ∷ []); facts = ((Rel relation.Eq (Var 1 sort.Val) (Of unary.Vi (Var 2 sort.Int))) ∷ (Rel relation.Le (Number (pos 0)) (Var 2 sort.Int)) ∷ (Rel relation.Le (Var 2 sort.Int) (Var 0 sort.Int)) ∷ []); locals = []; items = ([]) }) }) ∷ (record { is_void = false; name = name_main; params = ([]); vars = []; pre = (record { opened = []; facts = ([]); locals = []; items = ((Data (Number (pos 64)) (Global name_arr) (Of2 binary.Cons (Of unary.Vi (Number (pos 1))) (Of2 binary.Cons (Of unary.Vi (Number (pos 2))) (Of2 binary.Cons (Of unary.Vi (Number (pos 0))) (Of2 binary.Cons (Of unary.Vi (Number (pos 0))) Nil))))) ∷ (Data (Number (pos 64)) (Global name_x) (Of2 binary.Cons (Of unary.Vi (Number (pos 3))) Nil)) ∷ (Data (Number (pos 64)) (Global name_l) (Of2 binary.Cons (Of unary.Vi (Number (pos 0))) Nil)) ∷ []) }); post = (record { opened = (sort.List ∷ []); facts = ([]); locals = []; items = ((Data (Number (pos 64)) (Global name_arr) (Of2 binary.Cons (Of unary.Vi (Number (pos 1))) (Of2 binary.Cons (Of unary.Vi (Number (pos 2))) (Of2 binary.Cons (Of unary.Vi (Number (pos 0))) (Of2 binary.Cons (Of unary.Vi (Number (pos 0))) Nil))))) ∷ (Data (Number (pos 64)) (Global name_x) (Var 1 sort.List)) ∷ (Data (Number (pos 64)) (Global name_l) (Of2 binary.Cons Undef Nil)) ∷ []) }) }) ∷ []) }) (record { is_void = false; name = name_main; params = ([]); vars = []; pre = (record { opened = []; facts = ([]); locals = []; items = ((Data (Number (pos 64)) (Global name_arr) (Of2 binary.Cons (Of unary.Vi (Number (pos 1))) (Of2 binary.Cons (Of unary.Vi (Number (pos 2))) (Of2 binary.Cons (Of unary.Vi (Number (pos 0))) (Of2 binary.Cons (Of unary.Vi (Number (pos 0))) Nil))))) ∷ (Data (Number (pos 64)) (Global name_x) (Of2 binary.Cons (Of unary.Vi (Number (pos 3))) Nil)) ∷ (Data (Number (pos 64)) (Global name_l) (Of2 binary.Cons (Of unary.Vi (Number (pos 0))) Nil)) ∷ []) }); post = (record { opened = (sort.List ∷ []); facts = ([]); locals = []; items = ((Data (Number (pos 64)) (Global name_arr) (Of2 binary.Cons (Of unary.Vi (Number (pos 1))) (Of2 binary.Cons (Of unary.Vi (Number (pos 2))) (Of2 binary.Cons (Of unary.Vi (Number (pos 0))) (Of2 binary.Cons (Of unary.Vi (Number (pos 0))) Nil))))) ∷ (Data (Number (pos 64)) (Global name_x) (Var 1 sort.List)) ∷ (Data (Number (pos 64)) (Global name_l) (Of2 binary.Cons Undef Nil)) ∷ []) }) }) (record { temps = (name_s ∷ name_t ∷ name_i ∷ name_x1 ∷ name_d0 ∷ name_p1 ∷ name_q1 ∷ []); body = (c.Then (c.Set 0 (c.Const 0)) (c.Then (c.OnLock lock.Make (c.Address (root.Global name_l 1) c.Here)) (c.Then (c.OnLock lock.Release (c.Address (root.Global name_l 1) c.Here)) (c.Then (c.Load 1 (root.Global name_arr 4) (c.Index kind.Signed (c.Const 1) c.Here)) (c.Then (c.Call None name_nop ([])) (c.Then (c.Call (Some 1) name_pos ((c.Const 3) ∷ [])) (c.Then (c.OnLock lock.Acquire (c.Address (root.Global name_l 1) c.Here)) (c.Then (c.Load 1 (root.Global name_x 1) c.Here) (c.Then (c.Store (root.Global name_x 1) c.Here (c.Temp 1)) (c.Then (c.OnLock lock.Release (c.Address (root.Global name_l 1) c.Here)) (c.Then (c.OnLock lock.Acquire (c.Address (root.Global name_l 1) c.Here)) (c.Then (c.OnLock lock.Free (c.Address (root.Global name_l 1) c.Here)) (c.Then (c.Return (Some (c.Temp 1))) c.End))))))))))))) }) (s.Then 1 (s.Set ([]) ([])) s.NoBlock (s.Then 2 (s.MakeLock 2 (record { name = name_ov; args = ([]) }) ([]) ([])) s.NoBlock (s.Then 3 (s.Release 2 3 ([])) s.NoBlock (s.Then 4 (s.Load 0 ([]) ([])) s.NoBlock (s.Then 5 (s.Call ([]) ([]) ([]) ([])) s.NoBlock (s.Then 6 (s.Call ((Number (pos 3)) ∷ []) ([]) ([]) (name_k1 ∷ name_k2 ∷ [])) s.NoBlock (s.Then 7 (s.Acquire 1 ([])) s.NoBlock (s.Then 8 (s.Unfold 3 ((name_k3 ∷ []) ∷ [])) (s.WithBlock (s.Then 9 (s.Load 3 ([]) ([])) s.NoBlock (s.Then 10 (s.Store 3 ([]) ([])) s.NoBlock (s.Then 11 (s.Fold name_ov 0 ([]) ((Named name_k3) ∷ []) ([])) s.NoBlock (s.Then 12 (s.Release 2 3 ([])) s.NoBlock (s.Then 13 (s.Acquire 1 ([])) s.NoBlock (s.Then 14 (s.Unfold 3 ((name_k4 ∷ []) ∷ [])) (s.WithBlock (s.Then 15 (s.FreeLock 1 2 ([]) ([])) s.NoBlock (s.Then 16 (s.Return ((Of2 binary.Cons (Named name_k4) Nil) ∷ []) ([]) ([])) s.NoBlock s.End)) s.NoBlock) s.End)))))) s.NoBlock) s.End)))))))) ≡ (RefusedAt 3 18 1)
unfolding computing
random_902 = refl

random_903 : body_verdict (record { predicates = ([]); specs = ((record { is_void = false; name = name_f; params = (name_p00 ∷ name_s1 ∷ []); vars = ((name_v0, sort.Val) ∷ (name_o0, sort.Int) ∷ (name_w1, sort.Val) ∷ (name_h1, sort.Int) ∷ (name_q1, sort.Val) ∷ []); pre = (record { opened = []; facts = ((Rel relation.Le (Number (pos 0)) (Var 1 sort.Int)) ∷ (Rel relation.Le (Var 1 sort.Int) (Number (pos 20))) ∷ (Rel relation.Le (Number (pos 0)) (Var 3 sort.Int)) ∷ (Rel relation.Le (Var 3 sort.Int) (Number (pos 20))) ∷ []); locals = ((name_p00, (Var 0 sort.Val)) ∷ (name_s1, (Var 2 sort.Val)) ∷ []); items = ((Data (Number (pos 64)) (Global name_x) (Of2 binary.Cons (Of unary.Vi (Number (pos 3))) Nil)) ∷ (Data (Number (pos 32)) (Var 0 sort.Val) (Of2 binary.Cons (Of unary.Vi (Var 1 sort.Int)) Nil)) ∷ (Data (Number (pos 64)) (Var 2 sort.Val) (Of2 binary.Cons (Of unary.Vi (Var 3 sort.Int)) (Of2 binary.Cons (Var 4 sort.Val) (Of2 binary.Cons (Of unary.Vi (Number (pos 3))) Nil)))) ∷ []) }); post = (record { opened = []; facts = ((Rel relation.Eq (Var 5 sort.Val) (Of unary.Vi (Number (pos 0)))) ∷ []); locals = []; items = ((Data (Number (pos 64)) (Global name_x) (Of2 binary.Cons (Of unary.Vi (Number (pos 3))) Nil)) ∷ (Data (Number (pos 32)) (Var 0 sort.Val) (Of2 binary.Cons (Of unary.Vi (Var 1 sort.Int)) Nil)) ∷ (Data (Number (pos 64)) (Var 2 sort.Val) (Of2 binary.Cons (Of unary.Vi (Var 3 sort.Int)) (Of2 binary.Cons (Var 4 sort.Val) (Of2 binary.Cons (Of unary.Vi (Number (pos 3))) Nil)))) ∷ []) }) }) ∷ (record { is_void = false; name = name_main; params = ([]); vars = []; pre = (record { opened = []; facts = ([]); locals = []; items = ((Data (Number (pos 64)) (Global name_x) (Of2 binary.Cons (Of unary.Vi (Number (pos 3))) Nil)) ∷ []) }); post = (record { opened = []; facts = ((Rel relation.Eq (Var 0 sort.Val) (Of unary.Vi (Number (pos 0)))) ∷ []); locals = []; items = ((Data (Number (pos 64)) (Global name_x) (Of2 binary.Cons (Of unary.Vi (Number (pos 3))) Nil)) ∷ []) }) }) ∷ []) }) (record { is_void = false; name = name_f; params = (name_p00 ∷ name_s1 ∷ []); vars = ((name_v0, sort.Val) ∷ (name_o0, sort.Int) ∷ (name_w1, sort.Val) ∷ (name_h1, sort.Int) ∷ (name_q1, sort.Val) ∷ []); pre = (record { opened = []; facts = ((Rel relation.Le (Number (pos 0)) (Var 1 sort.Int)) ∷ (Rel relation.Le (Var 1 sort.Int) (Number (pos 20))) ∷ (Rel relation.Le (Number (pos 0)) (Var 3 sort.Int)) ∷ (Rel relation.Le (Var 3 sort.Int) (Number (pos 20))) ∷ []); locals = ((name_p00, (Var 0 sort.Val)) ∷ (name_s1, (Var 2 sort.Val)) ∷ []); items = ((Data (Number (pos 64)) (Global name_x) (Of2 binary.Cons (Of unary.Vi (Number (pos 3))) Nil)) ∷ (Data (Number (pos 32)) (Var 0 sort.Val) (Of2 binary.Cons (Of unary.Vi (Var 1 sort.Int)) Nil)) ∷ (Data (Number (pos 64)) (Var 2 sort.Val) (Of2 binary.Cons (Of unary.Vi (Var 3 sort.Int)) (Of2 binary.Cons (Var 4 sort.Val) (Of2 binary.Cons (Of unary.Vi (Number (pos 3))) Nil)))) ∷ []) }); post = (record { opened = []; facts = ((Rel relation.Eq (Var 5 sort.Val) (Of unary.Vi (Number (pos 0)))) ∷ []); locals = []; items = ((Data (Number (pos 64)) (Global name_x) (Of2 binary.Cons (Of unary.Vi (Number (pos 3))) Nil)) ∷ (Data (Number (pos 32)) (Var 0 sort.Val) (Of2 binary.Cons (Of unary.Vi (Var 1 sort.Int)) Nil)) ∷ (Data (Number (pos 64)) (Var 2 sort.Val) (Of2 binary.Cons (Of unary.Vi (Var 3 sort.Int)) (Of2 binary.Cons (Var 4 sort.Val) (Of2 binary.Cons (Of unary.Vi (Number (pos 3))) Nil)))) ∷ []) }) }) (record { temps = (name_p00 ∷ name_s1 ∷ name_s ∷ name_t ∷ name_i ∷ name_x1 ∷ name_d0 ∷ name_p1 ∷ name_q1 ∷ []); body = (c.Then (c.Set 2 (c.Const 0)) (c.Then (c.Set 3 (c.Const 3)) (c.Then (c.Load 2 (root.Global name_x 1) c.Here) (c.Then (c.Set 2 (c.Binary two.Add kind.Signed (c.Binary two.Mul kind.Signed (c.Const 1) (c.Const 10)) (c.Binary two.Div kind.Signed (c.Const 1) (c.Const 1)))) (c.Then (c.Set 2 (c.Binary two.Eq kind.Signed (c.Const 2) (c.Const 2))) (c.Then (c.Return (Some (c.Const 0))) c.End)))))) }) (s.Then 1 (s.Set ([]) ([])) s.NoBlock (s.Then 2 (s.Set ([]) ([])) s.NoBlock (s.Then 3 (s.Load 0 ([]) ([])) s.NoBlock (s.Then 4 (s.Set ([]) ([])) s.NoBlock (s.Then 5 (s.Set ([]) ([])) s.NoBlock (s.Then 6 (s.Split (Rel relation.Le (Named name_o0) (Number (pos 1))) ([]) ([])) (s.WithBlock (s.Then 7 (s.Pose (record { opened = (sort.Val ∷ []); facts = ((Rel relation.Le (Number (pos 0)) (Named name_o0)) ∷ []); locals = ((name_p00, (Named name_v0)) ∷ (name_s1, (Named name_w1)) ∷ (name_t, (Var 0 sort.Val)) ∷ []); items = ((Data (Number (pos 64)) (Global name_x) (Of2 binary.Cons (Of unary.Vi (Number (pos 3))) Nil)) ∷ (Data (Number (pos 32)) (Named name_v0) (Of2 binary.Cons (Of unary.Vi (Named name_o0)) Nil)) ∷ (Data (Number (pos 64)) (Named name_w1) (Of2 binary.Cons (Of unary.Vi (Named name_h1)) (Of2 binary.Cons (Named name_q1) (Of2 binary.Cons (Of unary.Vi (Number (pos 3))) Nil)))) ∷ []) }) (name_k2 ∷ []) ([])) (s.WithBlock (s.Then 8 (s.Meet ((Of unary.Vi (Number (pos 3))) ∷ []) ([])) s.NoBlock s.End) s.NoBlock) (s.Then 9 (s.Return ([]) ([]) ([])) s.NoBlock s.End)) (s.WithBlock (s.Then 10 (s.Apart 1 2 ([])) s.NoBlock (s.Then 11 (s.Return ([]) ([]) ([])) s.NoBlock s.End)) s.NoBlock)) s.End)))))) ≡ Accepted
unfolding computing
random_903 = refl

random_904 : body_verdict (record { predicates = ([]); specs = ((record { is_void = false; name = name_f; params = (name_p00 ∷ name_s1 ∷ []); vars = ((name_v0, sort.Val) ∷ (name_o0, sort.Int) ∷ (name_w1, sort.Val) ∷ (name_h1, sort.Int) ∷ (name_q1, sort.Val) ∷ []); pre = (record { opened = []; facts = ((Rel relation.Le (Number (pos 0)) (Var 1 sort.Int)) ∷ (Rel relation.Le (Var 1 sort.Int) (Number (pos 20))) ∷ (Rel relation.Le (Number (pos 0)) (Var 3 sort.Int)) ∷ (Rel relation.Le (Var 3 sort.Int) (Number (pos 20))) ∷ []); locals = ((name_p00, (Var 0 sort.Val)) ∷ (name_s1, (Var 2 sort.Val)) ∷ []); items = ((Data (Number (pos 64)) (Global name_x) (Of2 binary.Cons (Of unary.Vi (Number (pos 3))) Nil)) ∷ (Data (Number (pos 32)) (Var 0 sort.Val) (Of2 binary.Cons (Of unary.Vi (Var 1 sort.Int)) Nil)) ∷ (Data (Number (pos 64)) (Var 2 sort.Val) (Of2 binary.Cons (Of unary.Vi (Var 3 sort.Int)) (Of2 binary.Cons (Var 4 sort.Val) (Of2 binary.Cons (Of unary.Vi (Number (pos 3))) Nil)))) ∷ []) }); post = (record { opened = []; facts = ((Rel relation.Eq (Var 5 sort.Val) (Of unary.Vi (Number (pos 0)))) ∷ []); locals = []; items = ((Data (Number (pos 64)) (Global name_x) (Of2 binary.Cons (Of unary.Vi (Number (pos 3))) Nil)) ∷ (Data (Number (pos 32)) (Var 0 sort.Val) (Of2 binary.Cons (Of unary.Vi (Var 1 sort.Int)) Nil)) ∷ (Data (Number (pos 64)) (Var 2 sort.Val) (Of2 binary.Cons (Of unary.Vi (Var 3 sort.Int)) (Of2 binary.Cons (Var 4 sort.Val) (Of2 binary.Cons (Of unary.Vi (Number (pos 3))) Nil)))) ∷ []) }) }) ∷ (record { is_void = false; name = name_main; params = ([]); vars = []; pre = (record { opened = []; facts = ([]); locals = []; items = ((Data (Number (pos 64)) (Global name_x) (Of2 binary.Cons (Of unary.Vi (Number (pos 3))) Nil)) ∷ []) }); post = (record { opened = []; facts = ((Rel relation.Eq (Var 0 sort.Val) (Of unary.Vi (Number (pos 0)))) ∷ []); locals = []; items = ((Data (Number (pos 64)) (Global name_x) (Of2 binary.Cons (Of unary.Vi (Number (pos 3))) Nil)) ∷ []) }) }) ∷ []) }) (record { is_void = false; name = name_main; params = ([]); vars = []; pre = (record { opened = []; facts = ([]); locals = []; items = ((Data (Number (pos 64)) (Global name_x) (Of2 binary.Cons (Of unary.Vi (Number (pos 3))) Nil)) ∷ []) }); post = (record { opened = []; facts = ((Rel relation.Eq (Var 0 sort.Val) (Of unary.Vi (Number (pos 0)))) ∷ []); locals = []; items = ((Data (Number (pos 64)) (Global name_x) (Of2 binary.Cons (Of unary.Vi (Number (pos 3))) Nil)) ∷ []) }) }) (record { temps = ([]); body = (c.Then (c.Return (Some (c.Const 0))) c.End) }) (s.Then 1 (s.Return ([]) ([]) ([])) s.NoBlock s.End) ≡ Accepted
unfolding computing
random_904 = refl

random_905 : body_verdict (record { predicates = ([]); specs = ((record { is_void = false; name = name_f; params = (name_p00 ∷ name_s1 ∷ []); vars = ((name_v0, sort.Val) ∷ (name_o0, sort.Int) ∷ (name_w1, sort.Val) ∷ (name_h1, sort.Int) ∷ (name_q1, sort.Val) ∷ []); pre = (record { opened = []; facts = ((Rel relation.Le (Number (pos 0)) (Var 1 sort.Int)) ∷ (Rel relation.Le (Var 1 sort.Int) (Number (pos 20))) ∷ (Rel relation.Le (Number (pos 0)) (Var 3 sort.Int)) ∷ (Rel relation.Le (Var 3 sort.Int) (Number (pos 20))) ∷ []); locals = ((name_p00, (Var 0 sort.Val)) ∷ (name_s1, (Var 2 sort.Val)) ∷ []); items = ((Data (Number (pos 64)) (Global name_x) (Of2 binary.Cons (Of unary.Vi (Number (pos 3))) Nil)) ∷ (Data (Number (pos 32)) (Var 0 sort.Val) (Of2 binary.Cons (Of unary.Vi (Var 1 sort.Int)) Nil)) ∷ (Data (Number (pos 64)) (Var 2 sort.Val) (Of2 binary.Cons (Of unary.Vi (Var 3 sort.Int)) (Of2 binary.Cons (Var 4 sort.Val) (Of2 binary.Cons (Of unary.Vi (Number (pos 3))) Nil)))) ∷ []) }); post = (record { opened = []; facts = ((Rel relation.Eq (Var 5 sort.Val) (Of unary.Vi (Number (pos 0)))) ∷ []); locals = []; items = ((Data (Number (pos 64)) (Global name_x) (Of2 binary.Cons (Of unary.Vi (Number (pos 3))) Nil)) ∷ (Data (Number (pos 32)) (Var 0 sort.Val) (Of2 binary.Cons (Of unary.Vi (Var 1 sort.Int)) Nil)) ∷ (Data (Number (pos 64)) (Var 2 sort.Val) (Of2 binary.Cons (Of unary.Vi (Var 3 sort.Int)) (Of2 binary.Cons (Var 4 sort.Val) (Of2 binary.Cons (Of unary.Vi (Number (pos 3))) Nil)))) ∷ []) }) }) ∷ (record { is_void = false; name = name_main; params = ([]); vars = []; pre = (record { opened = []; facts = ([]); locals = []; items = ((Data (Number (pos 64)) (Global name_x) (Of2 binary.Cons (Of unary.Vi (Number (pos 3))) Nil)) ∷ []) }); post = (record { opened = []; facts = ((Rel relation.Eq (Var 0 sort.Val) (Of unary.Vi (Number (pos 0)))) ∷ []); locals = []; items = ((Data (Number (pos 64)) (Global name_x) (Of2 binary.Cons (Of unary.Vi (Number (pos 3))) Nil)) ∷ []) }) }) ∷ []) }) (record { is_void = false; name = name_f; params = (name_p00 ∷ name_s1 ∷ []); vars = ((name_v0, sort.Val) ∷ (name_o0, sort.Int) ∷ (name_w1, sort.Val) ∷ (name_h1, sort.Int) ∷ (name_q1, sort.Val) ∷ []); pre = (record { opened = []; facts = ((Rel relation.Le (Number (pos 0)) (Var 1 sort.Int)) ∷ (Rel relation.Le (Var 1 sort.Int) (Number (pos 20))) ∷ (Rel relation.Le (Number (pos 0)) (Var 3 sort.Int)) ∷ (Rel relation.Le (Var 3 sort.Int) (Number (pos 20))) ∷ []); locals = ((name_p00, (Var 0 sort.Val)) ∷ (name_s1, (Var 2 sort.Val)) ∷ []); items = ((Data (Number (pos 64)) (Global name_x) (Of2 binary.Cons (Of unary.Vi (Number (pos 3))) Nil)) ∷ (Data (Number (pos 32)) (Var 0 sort.Val) (Of2 binary.Cons (Of unary.Vi (Var 1 sort.Int)) Nil)) ∷ (Data (Number (pos 64)) (Var 2 sort.Val) (Of2 binary.Cons (Of unary.Vi (Var 3 sort.Int)) (Of2 binary.Cons (Var 4 sort.Val) (Of2 binary.Cons (Of unary.Vi (Number (pos 3))) Nil)))) ∷ []) }); post = (record { opened = []; facts = ((Rel relation.Eq (Var 5 sort.Val) (Of unary.Vi (Number (pos 0)))) ∷ []); locals = []; items = ((Data (Number (pos 64)) (Global name_x) (Of2 binary.Cons (Of unary.Vi (Number (pos 3))) Nil)) ∷ (Data (Number (pos 32)) (Var 0 sort.Val) (Of2 binary.Cons (Of unary.Vi (Var 1 sort.Int)) Nil)) ∷ (Data (Number (pos 64)) (Var 2 sort.Val) (Of2 binary.Cons (Of unary.Vi (Var 3 sort.Int)) (Of2 binary.Cons (Var 4 sort.Val) (Of2 binary.Cons (Of unary.Vi (Number (pos 3))) Nil)))) ∷ []) }) }) (record { temps = (name_p00 ∷ name_s1 ∷ name_s ∷ name_t ∷ name_i ∷ name_x1 ∷ name_d0 ∷ name_p1 ∷ name_q1 ∷ []); body = (c.Then (c.Set 2 (c.Const 0)) (c.Then (c.Set 3 (c.Const 3)) (c.Then (c.Load 2 (root.Global name_x 1) c.Here) (c.Then (c.Set 2 (c.Binary two.Add kind.Signed (c.Binary two.Mul kind.Signed (c.Const 1) (c.Const 10)) (c.Binary two.Div kind.Signed (c.Const 1) (c.Const 1)))) (c.Then (c.Set 2 (c.Binary two.Eq kind.Signed (c.Const 2) (c.Const 2))) (c.Then (c.Return (Some (c.Const 0))) c.End)))))) }) (s.Then 1 (s.Set ([]) ([])) s.NoBlock (s.Then 2 (s.Load 0 ([]) ([])) s.NoBlock (s.Then 3 (s.Set ([]) ([])) s.NoBlock (s.Then 4 (s.Set ([]) ([])) s.NoBlock (s.Then 5 (s.Split (Rel relation.Le (Named name_o0) (Number (pos 1))) ([]) ([])) (s.WithBlock (s.Then 6 (s.Pose (record { opened = (sort.Val ∷ []); facts = ((Rel relation.Le (Number (pos 0)) (Named name_o0)) ∷ []); locals = ((name_p00, (Named name_v0)) ∷ (name_s1, (Named name_w1)) ∷ (name_t, (Var 0 sort.Val)) ∷ []); items = ((Data (Number (pos 64)) (Global name_x) (Of2 binary.Cons (Of unary.Vi (Number (pos 3))) Nil)) ∷ (Data (Number (pos 32)) (Named name_v0) (Of2 binary.Cons (Of unary.Vi (Named name_o0)) Nil)) ∷ (Data (Number (pos 64)) (Named name_w1) (Of2 binary.Cons (Of unary.Vi (Named name_h1)) (Of2 binary.Cons (Named name_q1) (Of2 binary.Cons (Of unary.Vi (Number (pos 3))) Nil)))) ∷ []) }) (name_k2 ∷ []) ([])) (s.WithBlock (s.Then 7 (s.Meet ((Of unary.Vi (Number (pos 3))) ∷ []) ([])) s.NoBlock s.End) s.NoBlock) (s.Then 8 (s.Return ([]) ([]) ([])) s.NoBlock s.End)) (s.WithBlock (s.Then 9 (s.Apart 1 2 ([])) s.NoBlock (s.Then 10 (s.Return ([]) ([]) ([])) s.NoBlock s.End)) s.NoBlock)) s.End))))) ≡ (RefusedAt 2 3 1)
unfolding computing
random_905 = refl

random_906 : body_verdict (record { predicates = ([]); specs = ((record { is_void = false; name = name_f; params = (name_p00 ∷ name_s1 ∷ []); vars = ((name_v0, sort.Val) ∷ (name_o0, sort.Int) ∷ (name_w1, sort.Val) ∷ (name_h1, sort.Int) ∷ (name_q1, sort.Val) ∷ []); pre = (record { opened = []; facts = ((Rel relation.Le (Number (pos 0)) (Var 1 sort.Int)) ∷ (Rel relation.Le (Var 1 sort.Int) (Number (pos 20))) ∷ (Rel relation.Le (Number (pos 0)) (Var 3 sort.Int)) ∷ (Rel relation.Le (Var 3 sort.Int) (Number (pos 20))) ∷ []); locals = ((name_p00, (Var 0 sort.Val)) ∷ (name_s1, (Var 2 sort.Val)) ∷ []); items = ((Data (Number (pos 64)) (Global name_x) (Of2 binary.Cons (Of unary.Vi (Number (pos 3))) Nil)) ∷ (Data (Number (pos 32)) (Var 0 sort.Val) (Of2 binary.Cons (Of unary.Vi (Var 1 sort.Int)) Nil)) ∷ (Data (Number (pos 64)) (Var 2 sort.Val) (Of2 binary.Cons (Of unary.Vi (Var 3 sort.Int)) (Of2 binary.Cons (Var 4 sort.Val) (Of2 binary.Cons (Of unary.Vi (Number (pos 3))) Nil)))) ∷ []) }); post = (record { opened = []; facts = ((Rel relation.Eq (Var 5 sort.Val) (Of unary.Vi (Number (pos 0)))) ∷ []); locals = []; items = ((Data (Number (pos 64)) (Global name_x) (Of2 binary.Cons (Of unary.Vi (Number (pos 3))) Nil)) ∷ (Data (Number (pos 32)) (Var 0 sort.Val) (Of2 binary.Cons (Of unary.Vi (Var 1 sort.Int)) Nil)) ∷ (Data (Number (pos 64)) (Var 2 sort.Val) (Of2 binary.Cons (Of unary.Vi (Var 3 sort.Int)) (Of2 binary.Cons (Var 4 sort.Val) (Of2 binary.Cons (Of unary.Vi (Number (pos 3))) Nil)))) ∷ []) }) }) ∷ (record { is_void = false; name = name_main; params = ([]); vars = []; pre = (record { opened = []; facts = ([]); locals = []; items = ((Data (Number (pos 64)) (Global name_x) (Of2 binary.Cons (Of unary.Vi (Number (pos 3))) Nil)) ∷ []) }); post = (record { opened = []; facts = ((Rel relation.Eq (Var 0 sort.Val) (Of unary.Vi (Number (pos 0)))) ∷ []); locals = []; items = ((Data (Number (pos 64)) (Global name_x) (Of2 binary.Cons (Of unary.Vi (Number (pos 3))) Nil)) ∷ []) }) }) ∷ []) }) (record { is_void = false; name = name_f; params = (name_p00 ∷ name_s1 ∷ []); vars = ((name_v0, sort.Val) ∷ (name_o0, sort.Int) ∷ (name_w1, sort.Val) ∷ (name_h1, sort.Int) ∷ (name_q1, sort.Val) ∷ []); pre = (record { opened = []; facts = ((Rel relation.Le (Number (pos 0)) (Var 1 sort.Int)) ∷ (Rel relation.Le (Var 1 sort.Int) (Number (pos 20))) ∷ (Rel relation.Le (Number (pos 0)) (Var 3 sort.Int)) ∷ (Rel relation.Le (Var 3 sort.Int) (Number (pos 20))) ∷ []); locals = ((name_p00, (Var 0 sort.Val)) ∷ (name_s1, (Var 2 sort.Val)) ∷ []); items = ((Data (Number (pos 64)) (Global name_x) (Of2 binary.Cons (Of unary.Vi (Number (pos 3))) Nil)) ∷ (Data (Number (pos 32)) (Var 0 sort.Val) (Of2 binary.Cons (Of unary.Vi (Var 1 sort.Int)) Nil)) ∷ (Data (Number (pos 64)) (Var 2 sort.Val) (Of2 binary.Cons (Of unary.Vi (Var 3 sort.Int)) (Of2 binary.Cons (Var 4 sort.Val) (Of2 binary.Cons (Of unary.Vi (Number (pos 3))) Nil)))) ∷ []) }); post = (record { opened = []; facts = ((Rel relation.Eq (Var 5 sort.Val) (Of unary.Vi (Number (pos 0)))) ∷ []); locals = []; items = ((Data (Number (pos 64)) (Global name_x) (Of2 binary.Cons (Of unary.Vi (Number (pos 3))) Nil)) ∷ (Data (Number (pos 32)) (Var 0 sort.Val) (Of2 binary.Cons (Of unary.Vi (Var 1 sort.Int)) Nil)) ∷ (Data (Number (pos 64)) (Var 2 sort.Val) (Of2 binary.Cons (Of unary.Vi (Var 3 sort.Int)) (Of2 binary.Cons (Var 4 sort.Val) (Of2 binary.Cons (Of unary.Vi (Number (pos 3))) Nil)))) ∷ []) }) }) (record { temps = (name_p00 ∷ name_s1 ∷ name_s ∷ name_t ∷ name_i ∷ name_x1 ∷ name_d0 ∷ name_p1 ∷ name_q1 ∷ []); body = (c.Then (c.Set 2 (c.Const 0)) (c.Then (c.Set 3 (c.Const 3)) (c.Then (c.Load 2 (root.Global name_x 1) c.Here) (c.Then (c.Set 2 (c.Binary two.Add kind.Signed (c.Binary two.Mul kind.Signed (c.Const 1) (c.Const 10)) (c.Binary two.Div kind.Signed (c.Const 1) (c.Const 1)))) (c.Then (c.Set 2 (c.Binary two.Eq kind.Signed (c.Const 2) (c.Const 2))) (c.Then (c.Return (Some (c.Const 0))) c.End)))))) }) (s.Then 1 (s.Set ([]) ([])) s.NoBlock (s.Then 2 (s.Set ([]) ([])) s.NoBlock (s.Then 3 (s.Load 0 ([]) ([])) s.NoBlock (s.Then 4 (s.Set ([]) ([])) s.NoBlock (s.Then 5 (s.Set ([]) ([])) s.NoBlock (s.Then 6 (s.Split (Rel relation.Le (Named name_o0) (Number (pos 1))) ([]) ([])) (s.WithBlock (s.Then 7 (s.Pose (record { opened = (sort.Val ∷ []); facts = ((Rel relation.Le (Number (pos 0)) (Named name_o0)) ∷ []); locals = ((name_p00, (Named name_v0)) ∷ (name_s1, (Named name_w1)) ∷ (name_t, (Var 0 sort.Val)) ∷ []); items = ((Data (Number (pos 64)) (Global name_x) (Of2 binary.Cons (Of unary.Vi (Number (pos 3))) Nil)) ∷ (Data (Number (pos 32)) (Named name_v0) (Of2 binary.Cons (Of unary.Vi (Named name_o0)) Nil)) ∷ (Data (Number (pos 64)) (Named name_w1) (Of2 binary.Cons (Of unary.Vi (Named name_h1)) (Of2 binary.Cons (Named name_q1) (Of2 binary.Cons (Of unary.Vi (Number (pos 2))) Nil)))) ∷ []) }) (name_k2 ∷ []) ([])) (s.WithBlock (s.Then 8 (s.Meet ((Of unary.Vi (Number (pos 3))) ∷ []) ([])) s.NoBlock s.End) s.NoBlock) (s.Then 9 (s.Return ([]) ([]) ([])) s.NoBlock s.End)) (s.WithBlock (s.Then 10 (s.Apart 1 2 ([])) s.NoBlock (s.Then 11 (s.Return ([]) ([]) ([])) s.NoBlock s.End)) s.NoBlock)) s.End)))))) ≡ (RefusedAt 8 37 5)
unfolding computing
random_906 = refl

random_907 : body_verdict (record { predicates = ([]); specs = ((record { is_void = false; name = name_f; params = (name_p00 ∷ name_s1 ∷ []); vars = ((name_v0, sort.Val) ∷ (name_o0, sort.Int) ∷ (name_w1, sort.Val) ∷ (name_h1, sort.Int) ∷ (name_q1, sort.Val) ∷ []); pre = (record { opened = []; facts = ((Rel relation.Le (Number (pos 0)) (Var 1 sort.Int)) ∷ (Rel relation.Le (Var 1 sort.Int) (Number (pos 20))) ∷ (Rel relation.Le (Number (pos 0)) (Var 3 sort.Int)) ∷ (Rel relation.Le (Var 3 sort.Int) (Number (pos 20))) ∷ []); locals = ((name_p00, (Var 0 sort.Val)) ∷ (name_s1, (Var 2 sort.Val)) ∷ []); items = ((Data (Number (pos 64)) (Global name_x) (Of2 binary.Cons (Of unary.Vi (Number (pos 3))) Nil)) ∷ (Data (Number (pos 32)) (Var 0 sort.Val) (Of2 binary.Cons (Of unary.Vi (Var 1 sort.Int)) Nil)) ∷ (Data (Number (pos 64)) (Var 2 sort.Val) (Of2 binary.Cons (Of unary.Vi (Var 3 sort.Int)) (Of2 binary.Cons (Var 4 sort.Val) (Of2 binary.Cons (Of unary.Vi (Number (pos 3))) Nil)))) ∷ []) }); post = (record { opened = []; facts = ((Rel relation.Eq (Var 5 sort.Val) (Of unary.Vi (Number (pos 0)))) ∷ []); locals = []; items = ((Data (Number (pos 64)) (Global name_x) (Of2 binary.Cons (Of unary.Vi (Number (pos 3))) Nil)) ∷ (Data (Number (pos 32)) (Var 0 sort.Val) (Of2 binary.Cons (Of unary.Vi (Var 1 sort.Int)) Nil)) ∷ (Data (Number (pos 64)) (Var 2 sort.Val) (Of2 binary.Cons (Of unary.Vi (Var 3 sort.Int)) (Of2 binary.Cons (Var 4 sort.Val) (Of2 binary.Cons (Of unary.Vi (Number (pos 3))) Nil)))) ∷ []) }) }) ∷ (record { is_void = false; name = name_main; params = ([]); vars = []; pre = (record { opened = []; facts = ([]); locals = []; items = ((Data (Number (pos 64)) (Global name_x) (Of2 binary.Cons (Of unary.Vi (Number (pos 3))) Nil)) ∷ []) }); post = (record { opened = []; facts = ((Rel relation.Eq (Var 0 sort.Val) (Of unary.Vi (Number (pos 0)))) ∷ []); locals = []; items = ((Data (Number (pos 64)) (Global name_x) (Of2 binary.Cons (Of unary.Vi (Number (pos 3))) Nil)) ∷ []) }) }) ∷ []) }) (record { is_void = false; name = name_f; params = (name_p00 ∷ name_s1 ∷ []); vars = ((name_v0, sort.Val) ∷ (name_o0, sort.Int) ∷ (name_w1, sort.Val) ∷ (name_h1, sort.Int) ∷ (name_q1, sort.Val) ∷ []); pre = (record { opened = []; facts = ((Rel relation.Le (Number (pos 0)) (Var 1 sort.Int)) ∷ (Rel relation.Le (Var 1 sort.Int) (Number (pos 20))) ∷ (Rel relation.Le (Number (pos 0)) (Var 3 sort.Int)) ∷ (Rel relation.Le (Var 3 sort.Int) (Number (pos 20))) ∷ []); locals = ((name_p00, (Var 0 sort.Val)) ∷ (name_s1, (Var 2 sort.Val)) ∷ []); items = ((Data (Number (pos 64)) (Global name_x) (Of2 binary.Cons (Of unary.Vi (Number (pos 3))) Nil)) ∷ (Data (Number (pos 32)) (Var 0 sort.Val) (Of2 binary.Cons (Of unary.Vi (Var 1 sort.Int)) Nil)) ∷ (Data (Number (pos 64)) (Var 2 sort.Val) (Of2 binary.Cons (Of unary.Vi (Var 3 sort.Int)) (Of2 binary.Cons (Var 4 sort.Val) (Of2 binary.Cons (Of unary.Vi (Number (pos 3))) Nil)))) ∷ []) }); post = (record { opened = []; facts = ((Rel relation.Eq (Var 5 sort.Val) (Of unary.Vi (Number (pos 0)))) ∷ []); locals = []; items = ((Data (Number (pos 64)) (Global name_x) (Of2 binary.Cons (Of unary.Vi (Number (pos 3))) Nil)) ∷ (Data (Number (pos 32)) (Var 0 sort.Val) (Of2 binary.Cons (Of unary.Vi (Var 1 sort.Int)) Nil)) ∷ (Data (Number (pos 64)) (Var 2 sort.Val) (Of2 binary.Cons (Of unary.Vi (Var 3 sort.Int)) (Of2 binary.Cons (Var 4 sort.Val) (Of2 binary.Cons (Of unary.Vi (Number (pos 3))) Nil)))) ∷ []) }) }) (record { temps = (name_p00 ∷ name_s1 ∷ name_s ∷ name_t ∷ name_i ∷ name_x1 ∷ name_d0 ∷ name_p1 ∷ name_q1 ∷ []); body = (c.Then (c.Set 2 (c.Const 0)) (c.Then (c.Set 3 (c.Const 3)) (c.Then (c.Load 2 (root.Global name_x 1) c.Here) (c.Then (c.Set 2 (c.Binary two.Add kind.Signed (c.Binary two.Mul kind.Signed (c.Const 1) (c.Const 10)) (c.Binary two.Div kind.Signed (c.Const 1) (c.Const 1)))) (c.Then (c.Set 2 (c.Binary two.Eq kind.Signed (c.Const 2) (c.Const 2))) (c.Then (c.Return (Some (c.Const 0))) c.End)))))) }) (s.Then 1 (s.Set ([]) ([])) s.NoBlock (s.Then 2 (s.Set ([]) ([])) s.NoBlock (s.Then 3 (s.Load 0 ([]) ([])) s.NoBlock (s.Then 4 (s.Set ([]) ([])) s.NoBlock (s.Then 5 (s.Set ([]) ([])) s.NoBlock (s.Then 6 (s.Split (Rel relation.Le (Named name_o0) (Number (pos 1))) ([]) ([])) (s.WithBlock (s.Then 7 (s.Pose (record { opened = (sort.Val ∷ []); facts = ((Rel relation.Le (Number (pos 0)) (Named name_o0)) ∷ []); locals = ((name_p00, (Named name_v0)) ∷ (name_s1, (Named name_w1)) ∷ (name_t, (Var 0 sort.Val)) ∷ []); items = ((Data (Number (pos 64)) (Global name_x) (Of2 binary.Cons (Of unary.Vi (Number (pos 3))) Nil)) ∷ (Data (Number (pos 32)) (Named name_v0) (Of2 binary.Cons (Of unary.Vi (Named name_o0)) Nil)) ∷ (Data (Number (pos 64)) (Named name_w1) (Of2 binary.Cons (Of unary.Vi (Named name_h1)) (Of2 binary.Cons (Named name_q1) (Of2 binary.Cons (Of unary.Vi (Number (pos 3))) Nil)))) ∷ []) }) (name_k2 ∷ []) ([])) (s.WithBlock (s.Then 8 (s.Meet ((Of unary.Vi (Number (pos 3))) ∷ []) ([])) s.NoBlock s.End) s.NoBlock) (s.Then 9 (s.Return ([]) ([]) ([])) s.NoBlock s.End)) (s.WithBlock (s.Then 10 (s.Apart 1 2 ([])) s.NoBlock s.End) s.NoBlock)) s.End)))))) ≡ (RefusedAt 11 0 10)
unfolding computing
random_907 = refl

random_908 : body_verdict (record { predicates = ([]); specs = ((record { is_void = false; name = name_f; params = (name_p00 ∷ name_s1 ∷ []); vars = ((name_v0, sort.Val) ∷ (name_o0, sort.Int) ∷ (name_w1, sort.Val) ∷ (name_h1, sort.Int) ∷ (name_q1, sort.Val) ∷ []); pre = (record { opened = []; facts = ((Rel relation.Le (Number (pos 0)) (Var 1 sort.Int)) ∷ (Rel relation.Le (Var 1 sort.Int) (Number (pos 20))) ∷ (Rel relation.Le (Number (pos 0)) (Var 3 sort.Int)) ∷ (Rel relation.Le (Var 3 sort.Int) (Number (pos 20))) ∷ []); locals = ((name_p00, (Var 0 sort.Val)) ∷ (name_s1, (Var 2 sort.Val)) ∷ []); items = ((Data (Number (pos 64)) (Global name_x) (Of2 binary.Cons (Of unary.Vi (Number (pos 3))) Nil)) ∷ (Data (Number (pos 32)) (Var 0 sort.Val) (Of2 binary.Cons (Of unary.Vi (Var 1 sort.Int)) Nil)) ∷ (Data (Number (pos 64)) (Var 2 sort.Val) (Of2 binary.Cons (Of unary.Vi (Var 3 sort.Int)) (Of2 binary.Cons (Var 4 sort.Val) (Of2 binary.Cons (Of unary.Vi (Number (pos 3))) Nil)))) ∷ []) }); post = (record { opened = []; facts = ((Rel relation.Eq (Var 5 sort.Val) (Of unary.Vi (Number (pos 0)))) ∷ []); locals = []; items = ((Data (Number (pos 64)) (Global name_x) (Of2 binary.Cons (Of unary.Vi (Number (pos 3))) Nil)) ∷ (Data (Number (pos 32)) (Var 0 sort.Val) (Of2 binary.Cons (Of unary.Vi (Var 1 sort.Int)) Nil)) ∷ (Data (Number (pos 64)) (Var 2 sort.Val) (Of2 binary.Cons (Of unary.Vi (Var 3 sort.Int)) (Of2 binary.Cons (Var 4 sort.Val) (Of2 binary.Cons (Of unary.Vi (Number (pos 3))) Nil)))) ∷ []) }) }) ∷ (record { is_void = false; name = name_main; params = ([]); vars = []; pre = (record { opened = []; facts = ([]); locals = []; items = ((Data (Number (pos 64)) (Global name_x) (Of2 binary.Cons (Of unary.Vi (Number (pos 3))) Nil)) ∷ []) }); post = (record { opened = []; facts = ((Rel relation.Eq (Var 0 sort.Val) (Of unary.Vi (Number (pos 0)))) ∷ []); locals = []; items = ((Data (Number (pos 64)) (Global name_x) (Of2 binary.Cons (Of unary.Vi (Number (pos 3))) Nil)) ∷ []) }) }) ∷ []) }) (record { is_void = false; name = name_f; params = (name_p00 ∷ name_s1 ∷ []); vars = ((name_v0, sort.Val) ∷ (name_o0, sort.Int) ∷ (name_w1, sort.Val) ∷ (name_h1, sort.Int) ∷ (name_q1, sort.Val) ∷ []); pre = (record { opened = []; facts = ((Rel relation.Le (Number (pos 0)) (Var 1 sort.Int)) ∷ (Rel relation.Le (Var 1 sort.Int) (Number (pos 20))) ∷ (Rel relation.Le (Number (pos 0)) (Var 3 sort.Int)) ∷ (Rel relation.Le (Var 3 sort.Int) (Number (pos 20))) ∷ []); locals = ((name_p00, (Var 0 sort.Val)) ∷ (name_s1, (Var 2 sort.Val)) ∷ []); items = ((Data (Number (pos 64)) (Global name_x) (Of2 binary.Cons (Of unary.Vi (Number (pos 3))) Nil)) ∷ (Data (Number (pos 32)) (Var 0 sort.Val) (Of2 binary.Cons (Of unary.Vi (Var 1 sort.Int)) Nil)) ∷ (Data (Number (pos 64)) (Var 2 sort.Val) (Of2 binary.Cons (Of unary.Vi (Var 3 sort.Int)) (Of2 binary.Cons (Var 4 sort.Val) (Of2 binary.Cons (Of unary.Vi (Number (pos 3))) Nil)))) ∷ []) }); post = (record { opened = []; facts = ((Rel relation.Eq (Var 5 sort.Val) (Of unary.Vi (Number (pos 0)))) ∷ []); locals = []; items = ((Data (Number (pos 64)) (Global name_x) (Of2 binary.Cons (Of unary.Vi (Number (pos 3))) Nil)) ∷ (Data (Number (pos 32)) (Var 0 sort.Val) (Of2 binary.Cons (Of unary.Vi (Var 1 sort.Int)) Nil)) ∷ (Data (Number (pos 64)) (Var 2 sort.Val) (Of2 binary.Cons (Of unary.Vi (Var 3 sort.Int)) (Of2 binary.Cons (Var 4 sort.Val) (Of2 binary.Cons (Of unary.Vi (Number (pos 3))) Nil)))) ∷ []) }) }) (record { temps = (name_p00 ∷ name_s1 ∷ name_s ∷ name_t ∷ name_i ∷ name_x1 ∷ name_d0 ∷ name_p1 ∷ name_q1 ∷ []); body = (c.Then (c.Set 2 (c.Const 0)) (c.Then (c.Set 3 (c.Const 3)) (c.Then (c.Load 2 (root.Global name_x 1) c.Here) (c.Then (c.Set 2 (c.Binary two.Add kind.Signed (c.Binary two.Mul kind.Signed (c.Const 1) (c.Const 10)) (c.Binary two.Div kind.Signed (c.Const 1) (c.Const 1)))) (c.Then (c.Set 2 (c.Binary two.Eq kind.Signed (c.Const 2) (c.Const 2))) (c.Then (c.Return (Some (c.Const 0))) c.End)))))) }) (s.Then 1 (s.Set ([]) ([])) s.NoBlock (s.Then 2 (s.Set ([]) ([])) s.NoBlock (s.Then 3 (s.Load 0 ([]) ([])) s.NoBlock (s.Then 4 (s.Set ([]) ([])) s.NoBlock (s.Then 5 (s.Set ([]) ([])) s.NoBlock (s.Then 6 (s.Set ([]) ([])) s.NoBlock (s.Then 7 (s.Split (Rel relation.Le (Named name_o0) (Number (pos 1))) ([]) ([])) (s.WithBlock (s.Then 8 (s.Pose (record { opened = (sort.Val ∷ []); facts = ((Rel relation.Le (Number (pos 0)) (Named name_o0)) ∷ []); locals = ((name_p00, (Named name_v0)) ∷ (name_s1, (Named name_w1)) ∷ (name_t, (Var 0 sort.Val)) ∷ []); items = ((Data (Number (pos 64)) (Global name_x) (Of2 binary.Cons (Of unary.Vi (Number (pos 3))) Nil)) ∷ (Data (Number (pos 32)) (Named name_v0) (Of2 binary.Cons (Of unary.Vi (Named name_o0)) Nil)) ∷ (Data (Number (pos 64)) (Named name_w1) (Of2 binary.Cons (Of unary.Vi (Named name_h1)) (Of2 binary.Cons (Named name_q1) (Of2 binary.Cons (Of unary.Vi (Number (pos 3))) Nil)))) ∷ []) }) (name_k2 ∷ []) ([])) (s.WithBlock s.End s.NoBlock) (s.Then 9 (s.Return ([]) ([]) ([])) s.NoBlock s.End)) (s.WithBlock (s.Then 10 (s.Apart 1 2 ([])) s.NoBlock (s.Then 11 (s.Return ([]) ([]) ([])) s.NoBlock s.End)) s.NoBlock)) s.End))))))) ≡ (RefusedAt 6 2 1)
unfolding computing
random_908 = refl

random_909 : body_verdict (record { predicates = ([]); specs = ((record { is_void = false; name = name_f; params = (name_p00 ∷ name_s1 ∷ []); vars = ((name_v0, sort.Val) ∷ (name_o0, sort.Int) ∷ (name_w1, sort.Val) ∷ (name_h1, sort.Int) ∷ (name_q1, sort.Val) ∷ []); pre = (record { opened = []; facts = ((Rel relation.Le (Number (pos 0)) (Var 1 sort.Int)) ∷ (Rel relation.Le (Var 1 sort.Int) (Number (pos 20))) ∷ (Rel relation.Le (Number (pos 0)) (Var 3 sort.Int)) ∷ (Rel relation.Le (Var 3 sort.Int) (Number (pos 20))) ∷ []); locals = ((name_p00, (Var 0 sort.Val)) ∷ (name_s1, (Var 2 sort.Val)) ∷ []); items = ((Data (Number (pos 64)) (Global name_x) (Of2 binary.Cons (Of unary.Vi (Number (pos 3))) Nil)) ∷ (Data (Number (pos 32)) (Var 0 sort.Val) (Of2 binary.Cons (Of unary.Vi (Var 1 sort.Int)) Nil)) ∷ (Data (Number (pos 64)) (Var 2 sort.Val) (Of2 binary.Cons (Of unary.Vi (Var 3 sort.Int)) (Of2 binary.Cons (Var 4 sort.Val) (Of2 binary.Cons (Of unary.Vi (Number (pos 3))) Nil)))) ∷ []) }); post = (record { opened = []; facts = ((Rel relation.Eq (Var 5 sort.Val) (Of unary.Vi (Number (pos 0)))) ∷ []); locals = []; items = ((Data (Number (pos 64)) (Global name_x) (Of2 binary.Cons (Of unary.Vi (Number (pos 3))) Nil)) ∷ (Data (Number (pos 32)) (Var 0 sort.Val) (Of2 binary.Cons (Of unary.Vi (Var 1 sort.Int)) Nil)) ∷ (Data (Number (pos 64)) (Var 2 sort.Val) (Of2 binary.Cons (Of unary.Vi (Var 3 sort.Int)) (Of2 binary.Cons (Var 4 sort.Val) (Of2 binary.Cons (Of unary.Vi (Number (pos 3))) Nil)))) ∷ []) }) }) ∷ (record { is_void = false; name = name_main; params = ([]); vars = []; pre = (record { opened = []; facts = ([]); locals = []; items = ((Data (Number (pos 64)) (Global name_x) (Of2 binary.Cons (Of unary.Vi (Number (pos 3))) Nil)) ∷ []) }); post = (record { opened = []; facts = ((Rel relation.Eq (Var 0 sort.Val) (Of unary.Vi (Number (pos 0)))) ∷ []); locals = []; items = ((Data (Number (pos 64)) (Global name_x) (Of2 binary.Cons (Of unary.Vi (Number (pos 3))) Nil)) ∷ []) }) }) ∷ []) }) (record { is_void = false; name = name_f; params = (name_p00 ∷ name_s1 ∷ []); vars = ((name_v0, sort.Val) ∷ (name_o0, sort.Int) ∷ (name_w1, sort.Val) ∷ (name_h1, sort.Int) ∷ (name_q1, sort.Val) ∷ []); pre = (record { opened = []; facts = ((Rel relation.Le (Number (pos 0)) (Var 1 sort.Int)) ∷ (Rel relation.Le (Var 1 sort.Int) (Number (pos 20))) ∷ (Rel relation.Le (Number (pos 0)) (Var 3 sort.Int)) ∷ (Rel relation.Le (Var 3 sort.Int) (Number (pos 20))) ∷ []); locals = ((name_p00, (Var 0 sort.Val)) ∷ (name_s1, (Var 2 sort.Val)) ∷ []); items = ((Data (Number (pos 64)) (Global name_x) (Of2 binary.Cons (Of unary.Vi (Number (pos 3))) Nil)) ∷ (Data (Number (pos 32)) (Var 0 sort.Val) (Of2 binary.Cons (Of unary.Vi (Var 1 sort.Int)) Nil)) ∷ (Data (Number (pos 64)) (Var 2 sort.Val) (Of2 binary.Cons (Of unary.Vi (Var 3 sort.Int)) (Of2 binary.Cons (Var 4 sort.Val) (Of2 binary.Cons (Of unary.Vi (Number (pos 3))) Nil)))) ∷ []) }); post = (record { opened = []; facts = ((Rel relation.Eq (Var 5 sort.Val) (Of unary.Vi (Number (pos 0)))) ∷ []); locals = []; items = ((Data (Number (pos 64)) (Global name_x) (Of2 binary.Cons (Of unary.Vi (Number (pos 3))) Nil)) ∷ (Data (Number (pos 32)) (Var 0 sort.Val) (Of2 binary.Cons (Of unary.Vi (Var 1 sort.Int)) Nil)) ∷ (Data (Number (pos 64)) (Var 2 sort.Val) (Of2 binary.Cons (Of unary.Vi (Var 3 sort.Int)) (Of2 binary.Cons (Var 4 sort.Val) (Of2 binary.Cons (Of unary.Vi (Number (pos 3))) Nil)))) ∷ []) }) }) (record { temps = (name_p00 ∷ name_s1 ∷ name_s ∷ name_t ∷ name_i ∷ name_x1 ∷ name_d0 ∷ name_p1 ∷ name_q1 ∷ []); body = (c.Then (c.Set 2 (c.Const 0)) (c.Then (c.Set 3 (c.Const 3)) (c.Then (c.Load 2 (root.Global name_x 1) c.Here) (c.Then (c.Set 2 (c.Binary two.Add kind.Signed (c.Binary two.Mul kind.Signed (c.Const 1) (c.Const 10)) (c.Binary two.Div kind.Signed (c.Const 1) (c.Const 1)))) (c.Then (c.Set 2 (c.Binary two.Eq kind.Signed (c.Const 2) (c.Const 2))) (c.Then (c.Return (Some (c.Const 0))) c.End)))))) }) (s.Then 1 (s.Set ([]) ([])) s.NoBlock (s.Then 2 (s.Set ([]) ([])) s.NoBlock (s.Then 3 (s.Load 0 ([]) ([])) s.NoBlock (s.Then 4 (s.Set ([]) ([])) s.NoBlock (s.Then 5 (s.Set ([]) ([])) s.NoBlock (s.Then 6 (s.Split (Rel relation.Le (Named name_o0) (Number (pos 1))) ([]) ([])) (s.WithBlock (s.Then 7 (s.Pose (record { opened = (sort.Val ∷ []); facts = ((Rel relation.Le (Number (pos 0)) (Named name_o0)) ∷ []); locals = ((name_p00, (Named name_v0)) ∷ (name_s1, (Named name_w1)) ∷ (name_t, (Var 0 sort.Val)) ∷ []); items = ((Data (Number (pos 2147483647)) (Global name_x) (Of2 binary.Cons (Of unary.Vi (Number (pos 3))) Nil)) ∷ (Data (Number (pos 32)) (Named name_v0) (Of2 binary.Cons (Of unary.Vi (Named name_o0)) Nil)) ∷ (Data (Number (pos 64)) (Named name_w1) (Of2 binary.Cons (Of unary.Vi (Named name_h1)) (Of2 binary.Cons (Named name_q1) (Of2 binary.Cons (Of unary.Vi (Number (pos 3))) Nil)))) ∷ []) }) (name_k2 ∷ []) ([])) (s.WithBlock (s.Then 8 (s.Meet ((Of unary.Vi (Number (pos 3))) ∷ []) ([])) s.NoBlock s.End) s.NoBlock) (s.Then 9 (s.Return ([]) ([]) ([])) s.NoBlock s.End)) (s.WithBlock (s.Then 10 (s.Apart 1 2 ([])) s.NoBlock (s.Then 11 (s.Return ([]) ([]) ([])) s.NoBlock s.End)) s.NoBlock)) s.End)))))) ≡ (RefusedAt 8 37 5)
unfolding computing
random_909 = refl

random_910 : body_verdict (record { predicates = ([]); specs = ((record { is_void = false; name = name_f; params = (name_p00 ∷ name_s1 ∷ []); vars = ((name_v0, sort.Val) ∷ (name_o0, sort.Int) ∷ (name_w1, sort.Val) ∷ (name_h1, sort.Int) ∷ (name_q1, sort.Val) ∷ []); pre = (record { opened = []; facts = ((Rel relation.Le (Number (pos 0)) (Var 1 sort.Int)) ∷ (Rel relation.Le (Var 1 sort.Int) (Number (pos 20))) ∷ (Rel relation.Le (Number (pos 0)) (Var 3 sort.Int)) ∷ (Rel relation.Le (Var 3 sort.Int) (Number (pos 20))) ∷ []); locals = ((name_p00, (Var 0 sort.Val)) ∷ (name_s1, (Var 2 sort.Val)) ∷ []); items = ((Data (Number (pos 64)) (Global name_x) (Of2 binary.Cons (Of unary.Vi (Number (pos 3))) Nil)) ∷ (Data (Number (pos 32)) (Var 0 sort.Val) (Of2 binary.Cons (Of unary.Vi (Var 1 sort.Int)) Nil)) ∷ (Data (Number (pos 64)) (Var 2 sort.Val) (Of2 binary.Cons (Of unary.Vi (Var 3 sort.Int)) (Of2 binary.Cons (Var 4 sort.Val) (Of2 binary.Cons (Of unary.Vi (Number (pos 3))) Nil)))) ∷ []) }); post = (record { opened = []; facts = ((Rel relation.Eq (Var 5 sort.Val) (Of unary.Vi (Number (pos 0)))) ∷ []); locals = []; items = ((Data (Number (pos 64)) (Global name_x) (Of2 binary.Cons (Of unary.Vi (Number (pos 3))) Nil)) ∷ (Data (Number (pos 32)) (Var 0 sort.Val) (Of2 binary.Cons (Of unary.Vi (Var 1 sort.Int)) Nil)) ∷ (Data (Number (pos 64)) (Var 2 sort.Val) (Of2 binary.Cons (Of unary.Vi (Var 3 sort.Int)) (Of2 binary.Cons (Var 4 sort.Val) (Of2 binary.Cons (Of unary.Vi (Number (pos 3))) Nil)))) ∷ []) }) }) ∷ (record { is_void = false; name = name_main; params = ([]); vars = []; pre = (record { opened = []; facts = ([]); locals = []; items = ((Data (Number (pos 64)) (Global name_x) (Of2 binary.Cons (Of unary.Vi (Number (pos 3))) Nil)) ∷ []) }); post = (record { opened = []; facts = ((Rel relation.Eq (Var 0 sort.Val) (Of unary.Vi (Number (pos 0)))) ∷ []); locals = []; items = ((Data (Number (pos 64)) (Global name_x) (Of2 binary.Cons (Of unary.Vi (Number (pos 3))) Nil)) ∷ []) }) }) ∷ []) }) (record { is_void = false; name = name_f; params = (name_p00 ∷ name_s1 ∷ []); vars = ((name_v0, sort.Val) ∷ (name_o0, sort.Int) ∷ (name_w1, sort.Val) ∷ (name_h1, sort.Int) ∷ (name_q1, sort.Val) ∷ []); pre = (record { opened = []; facts = ((Rel relation.Le (Number (pos 0)) (Var 1 sort.Int)) ∷ (Rel relation.Le (Var 1 sort.Int) (Number (pos 20))) ∷ (Rel relation.Le (Number (pos 0)) (Var 3 sort.Int)) ∷ (Rel relation.Le (Var 3 sort.Int) (Number (pos 20))) ∷ []); locals = ((name_p00, (Var 0 sort.Val)) ∷ (name_s1, (Var 2 sort.Val)) ∷ []); items = ((Data (Number (pos 64)) (Global name_x) (Of2 binary.Cons (Of unary.Vi (Number (pos 3))) Nil)) ∷ (Data (Number (pos 32)) (Var 0 sort.Val) (Of2 binary.Cons (Of unary.Vi (Var 1 sort.Int)) Nil)) ∷ (Data (Number (pos 64)) (Var 2 sort.Val) (Of2 binary.Cons (Of unary.Vi (Var 3 sort.Int)) (Of2 binary.Cons (Var 4 sort.Val) (Of2 binary.Cons (Of unary.Vi (Number (pos 3))) Nil)))) ∷ []) }); post = (record { opened = []; facts = ((Rel relation.Eq (Var 5 sort.Val) (Of unary.Vi (Number (pos 0)))) ∷ []); locals = []; items = ((Data (Number (pos 64)) (Global name_x) (Of2 binary.Cons (Of unary.Vi (Number (pos 3))) Nil)) ∷ (Data (Number (pos 32)) (Var 0 sort.Val) (Of2 binary.Cons (Of unary.Vi (Var 1 sort.Int)) Nil)) ∷ (Data (Number (pos 64)) (Var 2 sort.Val) (Of2 binary.Cons (Of unary.Vi (Var 3 sort.Int)) (Of2 binary.Cons (Var 4 sort.Val) (Of2 binary.Cons (Of unary.Vi (Number (pos 3))) Nil)))) ∷ []) }) }) (record { temps = (name_p00 ∷ name_s1 ∷ name_s ∷ name_t ∷ name_i ∷ name_x1 ∷ name_d0 ∷ name_p1 ∷ name_q1 ∷ []); body = (c.Then (c.Set 2 (c.Const 0)) (c.Then (c.Set 3 (c.Const 3)) (c.Then (c.Load 2 (root.Global name_x 1) c.Here) (c.Then (c.Set 2 (c.Binary two.Add kind.Signed (c.Binary two.Mul kind.Signed (c.Const 1) (c.Const 10)) (c.Binary two.Div kind.Signed (c.Const 1) (c.Const 1)))) (c.Then (c.Set 2 (c.Binary two.Eq kind.Signed (c.Const 2) (c.Const 2))) (c.Then (c.Return (Some (c.Const 0))) c.End)))))) }) (s.Then 1 (s.Set ([]) ([])) s.NoBlock (s.Then 2 (s.Set ([]) ([])) s.NoBlock (s.Then 3 (s.Load 0 ([]) ([])) s.NoBlock (s.Then 4 (s.Set ([]) ([])) s.NoBlock (s.Then 5 (s.Pose (record { opened = []; facts = ([]); locals = ((name_zz, (Of unary.Vi (Number (pos 0)))) ∷ []); items = ([]) }) ([]) ([])) (s.WithBlock s.End s.NoBlock) (s.Then 6 (s.Split (Rel relation.Le (Named name_o0) (Number (pos 1))) ([]) ([])) (s.WithBlock (s.Then 7 (s.Pose (record { opened = (sort.Val ∷ []); facts = ((Rel relation.Le (Number (pos 0)) (Named name_o0)) ∷ []); locals = ((name_p00, (Named name_v0)) ∷ (name_s1, (Named name_w1)) ∷ (name_t, (Var 0 sort.Val)) ∷ []); items = ((Data (Number (pos 64)) (Global name_x) (Of2 binary.Cons (Of unary.Vi (Number (pos 3))) Nil)) ∷ (Data (Number (pos 32)) (Named name_v0) (Of2 binary.Cons (Of unary.Vi (Named name_o0)) Nil)) ∷ (Data (Number (pos 64)) (Named name_w1) (Of2 binary.Cons (Of unary.Vi (Named name_h1)) (Of2 binary.Cons (Named name_q1) (Of2 binary.Cons (Of unary.Vi (Number (pos 3))) Nil)))) ∷ []) }) (name_k2 ∷ []) ([])) (s.WithBlock (s.Then 8 (s.Meet ((Of unary.Vi (Number (pos 3))) ∷ []) ([])) s.NoBlock s.End) s.NoBlock) (s.Then 9 (s.Return ([]) ([]) ([])) s.NoBlock s.End)) (s.WithBlock (s.Then 10 (s.Apart 1 2 ([])) s.NoBlock (s.Then 11 (s.Return ([]) ([]) ([])) s.NoBlock s.End)) s.NoBlock)) s.End)))))) ≡ (RefusedAt 5 12 4)
unfolding computing
random_910 = refl

random_911 : body_verdict (record { predicates = ([]); specs = ((record { is_void = false; name = name_f; params = (name_p00 ∷ name_s1 ∷ []); vars = ((name_v0, sort.Val) ∷ (name_o0, sort.Int) ∷ (name_w1, sort.Val) ∷ (name_h1, sort.Int) ∷ (name_q1, sort.Val) ∷ []); pre = (record { opened = []; facts = ((Rel relation.Le (Number (pos 0)) (Var 1 sort.Int)) ∷ (Rel relation.Le (Var 1 sort.Int) (Number (pos 20))) ∷ (Rel relation.Le (Number (pos 0)) (Var 3 sort.Int)) ∷ (Rel relation.Le (Var 3 sort.Int) (Number (pos 20))) ∷ []); locals = ((name_p00, (Var 0 sort.Val)) ∷ (name_s1, (Var 2 sort.Val)) ∷ []); items = ((Data (Number (pos 64)) (Global name_x) (Of2 binary.Cons (Of unary.Vi (Number (pos 3))) Nil)) ∷ (Data (Number (pos 32)) (Var 0 sort.Val) (Of2 binary.Cons (Of unary.Vi (Var 1 sort.Int)) Nil)) ∷ (Data (Number (pos 64)) (Var 2 sort.Val) (Of2 binary.Cons (Of unary.Vi (Var 3 sort.Int)) (Of2 binary.Cons (Var 4 sort.Val) (Of2 binary.Cons (Of unary.Vi (Number (pos 3))) Nil)))) ∷ []) }); post = (record { opened = []; facts = ((Rel relation.Eq (Var 5 sort.Val) (Of unary.Vi (Number (pos 0)))) ∷ []); locals = []; items = ((Data (Number (pos 64)) (Global name_x) (Of2 binary.Cons (Of unary.Vi (Number (pos 3))) Nil)) ∷ (Data (Number (pos 32)) (Var 0 sort.Val) (Of2 binary.Cons (Of unary.Vi (Var 1 sort.Int)) Nil)) ∷ (Data (Number (pos 64)) (Var 2 sort.Val) (Of2 binary.Cons (Of unary.Vi (Var 3 sort.Int)) (Of2 binary.Cons (Var 4 sort.Val) (Of2 binary.Cons (Of unary.Vi (Number (pos 3))) Nil)))) ∷ []) }) }) ∷ (record { is_void = false; name = name_main; params = ([]); vars = []; pre = (record { opened = []; facts = ([]); locals = []; items = ((Data (Number (pos 64)) (Global name_x) (Of2 binary.Cons (Of unary.Vi (Number (pos 3))) Nil)) ∷ []) }); post = (record { opened = []; facts = ((Rel relation.Eq (Var 0 sort.Val) (Of unary.Vi (Number (pos 0)))) ∷ []); locals = []; items = ((Data (Number (pos 64)) (Global name_x) (Of2 binary.Cons (Of unary.Vi (Number (pos 3))) Nil)) ∷ []) }) }) ∷ []) }) (record { is_void = false; name = name_f; params = (name_p00 ∷ name_s1 ∷ []); vars = ((name_v0, sort.Val) ∷ (name_o0, sort.Int) ∷ (name_w1, sort.Val) ∷ (name_h1, sort.Int) ∷ (name_q1, sort.Val) ∷ []); pre = (record { opened = []; facts = ((Rel relation.Le (Number (pos 0)) (Var 1 sort.Int)) ∷ (Rel relation.Le (Var 1 sort.Int) (Number (pos 20))) ∷ (Rel relation.Le (Number (pos 0)) (Var 3 sort.Int)) ∷ (Rel relation.Le (Var 3 sort.Int) (Number (pos 20))) ∷ []); locals = ((name_p00, (Var 0 sort.Val)) ∷ (name_s1, (Var 2 sort.Val)) ∷ []); items = ((Data (Number (pos 64)) (Global name_x) (Of2 binary.Cons (Of unary.Vi (Number (pos 3))) Nil)) ∷ (Data (Number (pos 32)) (Var 0 sort.Val) (Of2 binary.Cons (Of unary.Vi (Var 1 sort.Int)) Nil)) ∷ (Data (Number (pos 64)) (Var 2 sort.Val) (Of2 binary.Cons (Of unary.Vi (Var 3 sort.Int)) (Of2 binary.Cons (Var 4 sort.Val) (Of2 binary.Cons (Of unary.Vi (Number (pos 3))) Nil)))) ∷ []) }); post = (record { opened = []; facts = ((Rel relation.Eq (Var 5 sort.Val) (Of unary.Vi (Number (pos 0)))) ∷ []); locals = []; items = ((Data (Number (pos 64)) (Global name_x) (Of2 binary.Cons (Of unary.Vi (Number (pos 3))) Nil)) ∷ (Data (Number (pos 32)) (Var 0 sort.Val) (Of2 binary.Cons (Of unary.Vi (Var 1 sort.Int)) Nil)) ∷ (Data (Number (pos 64)) (Var 2 sort.Val) (Of2 binary.Cons (Of unary.Vi (Var 3 sort.Int)) (Of2 binary.Cons (Var 4 sort.Val) (Of2 binary.Cons (Of unary.Vi (Number (pos 3))) Nil)))) ∷ []) }) }) (record { temps = (name_p00 ∷ name_s1 ∷ name_s ∷ name_t ∷ name_i ∷ name_x1 ∷ name_d0 ∷ name_p1 ∷ name_q1 ∷ []); body = (c.Then (c.Set 2 (c.Const 0)) (c.Then (c.Set 3 (c.Const 3)) (c.Then (c.Load 2 (root.Global name_x 1) c.Here) (c.Then (c.Set 2 (c.Binary two.Add kind.Signed (c.Binary two.Mul kind.Signed (c.Const 0) (c.Const 10)) (c.Binary two.Div kind.Signed (c.Const 1) (c.Const 1)))) (c.Then (c.Set 2 (c.Binary two.Eq kind.Signed (c.Const 2) (c.Const 2))) (c.Then (c.Return (Some (c.Const 0))) c.End)))))) }) (s.Then 1 (s.Set ([]) ([])) s.NoBlock (s.Then 2 (s.Set ([]) ([])) s.NoBlock (s.Then 3 (s.Load 0 ([]) ([])) s.NoBlock (s.Then 4 (s.Set ([]) ([])) s.NoBlock (s.Then 5 (s.Set ([]) ([])) s.NoBlock (s.Then 6 (s.Split (Rel relation.Le (Named name_o0) (Number (pos 1))) ([]) ([])) (s.WithBlock (s.Then 7 (s.Pose (record { opened = (sort.Val ∷ []); facts = ((Rel relation.Le (Number (pos 0)) (Named name_o0)) ∷ []); locals = ((name_p00, (Named name_v0)) ∷ (name_s1, (Named name_w1)) ∷ (name_t, (Var 0 sort.Val)) ∷ []); items = ((Data (Number (pos 64)) (Global name_x) (Of2 binary.Cons (Of unary.Vi (Number (pos 3))) Nil)) ∷ (Data (Number (pos 32)) (Named name_v0) (Of2 binary.Cons (Of unary.Vi (Named name_o0)) Nil)) ∷ (Data (Number (pos 64)) (Named name_w1) (Of2 binary.Cons (Of unary.Vi (Named name_h1)) (Of2 binary.Cons (Named name_q1) (Of2 binary.Cons (Of unary.Vi (Number (pos 3))) Nil)))) ∷ []) }) (name_k2 ∷ []) ([])) (s.WithBlock (s.Then 8 (s.Meet ((Of unary.Vi (Number (pos 3))) ∷ []) ([])) s.NoBlock s.End) s.NoBlock) (s.Then 9 (s.Return ([]) ([]) ([])) s.NoBlock s.End)) (s.WithBlock (s.Then 10 (s.Apart 1 2 ([])) s.NoBlock (s.Then 11 (s.Return ([]) ([]) ([])) s.NoBlock s.End)) s.NoBlock)) s.End)))))) ≡ Accepted
unfolding computing
random_911 = refl

random_912 : body_verdict (record { predicates = ([]); specs = ((record { is_void = false; name = name_f; params = (name_n0 ∷ []); vars = ((name_a0, sort.Int) ∷ []); pre = (record { opened = []; facts = ((Rel relation.Le (Number (pos 1)) (Var 0 sort.Int)) ∷ (Rel relation.Le (Var 0 sort.Int) (Number (pos 100))) ∷ []); locals = ((name_n0, (Of unary.Vi (Var 0 sort.Int))) ∷ []); items = ([]) }); post = (record { opened = []; facts = ((Rel relation.Eq (Var 1 sort.Val) (Of unary.Vi (Number (pos 6)))) ∷ []); locals = []; items = ([]) }) }) ∷ (record { is_void = false; name = name_main; params = ([]); vars = []; pre = (record { opened = []; facts = ([]); locals = []; items = ([]) }); post = (record { opened = []; facts = ((Rel relation.Eq (Var 0 sort.Val) (Of unary.Vi (Number (pos 0)))) ∷ []); locals = []; items = ([]) }) }) ∷ []) }) (record { is_void = false; name = name_f; params = (name_n0 ∷ []); vars = ((name_a0, sort.Int) ∷ []); pre = (record { opened = []; facts = ((Rel relation.Le (Number (pos 1)) (Var 0 sort.Int)) ∷ (Rel relation.Le (Var 0 sort.Int) (Number (pos 100))) ∷ []); locals = ((name_n0, (Of unary.Vi (Var 0 sort.Int))) ∷ []); items = ([]) }); post = (record { opened = []; facts = ((Rel relation.Eq (Var 1 sort.Val) (Of unary.Vi (Number (pos 6)))) ∷ []); locals = []; items = ([]) }) }) (record { temps = (name_n0 ∷ name_s ∷ name_t ∷ name_i ∷ name_x1 ∷ name_d0 ∷ name_p1 ∷ name_q1 ∷ []); body = (c.Then (c.Set 1 (c.Const 3)) (c.Then (c.Set 2 (c.Const 0)) (c.Then (c.Set 1 (c.Binary two.Mul kind.Signed (c.Const 3) (c.Const 2))) (c.Then (c.Set 4 (c.Const 7)) (c.Then (c.Return (Some (c.Temp 1))) c.End))))) }) (s.Then 1 (s.Set ([]) ([])) s.NoBlock (s.Then 2 (s.Set ([]) ([])) s.NoBlock (s.Then 3 (s.Set ([]) ([])) s.NoBlock (s.Then 4 (s.Set ([]) ([])) s.NoBlock (s.Then 5 (s.Return ([]) ([]) ([])) s.NoBlock s.End))))) ≡ Accepted
unfolding computing
random_912 = refl

random_913 : body_verdict (record { predicates = ([]); specs = ((record { is_void = false; name = name_f; params = (name_n0 ∷ []); vars = ((name_a0, sort.Int) ∷ []); pre = (record { opened = []; facts = ((Rel relation.Le (Number (pos 1)) (Var 0 sort.Int)) ∷ (Rel relation.Le (Var 0 sort.Int) (Number (pos 100))) ∷ []); locals = ((name_n0, (Of unary.Vi (Var 0 sort.Int))) ∷ []); items = ([]) }); post = (record { opened = []; facts = ((Rel relation.Eq (Var 1 sort.Val) (Of unary.Vi (Number (pos 6)))) ∷ []); locals = []; items = ([]) }) }) ∷ (record { is_void = false; name = name_main; params = ([]); vars = []; pre = (record { opened = []; facts = ([]); locals = []; items = ([]) }); post = (record { opened = []; facts = ((Rel relation.Eq (Var 0 sort.Val) (Of unary.Vi (Number (pos 0)))) ∷ []); locals = []; items = ([]) }) }) ∷ []) }) (record { is_void = false; name = name_main; params = ([]); vars = []; pre = (record { opened = []; facts = ([]); locals = []; items = ([]) }); post = (record { opened = []; facts = ((Rel relation.Eq (Var 0 sort.Val) (Of unary.Vi (Number (pos 0)))) ∷ []); locals = []; items = ([]) }) }) (record { temps = ([]); body = (c.Then (c.Return (Some (c.Const 0))) c.End) }) (s.Then 1 (s.Return ([]) ([]) ([])) s.NoBlock s.End) ≡ Accepted
unfolding computing
random_913 = refl

random_914 : body_verdict (record { predicates = ([]); specs = ((record { is_void = false; name = name_f; params = (name_n0 ∷ []); vars = ((name_a0, sort.Int) ∷ []); pre = (record { opened = []; facts = ((Rel relation.Le (Number (pos 1)) (Var 0 sort.Int)) ∷ (Rel relation.Le (Var 0 sort.Int) (Number (pos 100))) ∷ []); locals = ((name_n0, (Of unary.Vi (Var 0 sort.Int))) ∷ []); items = ([]) }); post = (record { opened = []; facts = ((Rel relation.Eq (Var 1 sort.Val) (Of unary.Vi (Number (pos 6)))) ∷ []); locals = []; items = ([]) }) }) ∷ (record { is_void = false; name = name_main; params = ([]); vars = []; pre = (record { opened = []; facts = ([]); locals = []; items = ([]) }); post = (record { opened = []; facts = ((Rel relation.Eq (Var 0 sort.Val) (Of unary.Vi (Number (pos 0)))) ∷ []); locals = []; items = ([]) }) }) ∷ []) }) (record { is_void = false; name = name_f; params = (name_n0 ∷ []); vars = ((name_a0, sort.Int) ∷ []); pre = (record { opened = []; facts = ((Rel relation.Le (Number (pos 1)) (Var 0 sort.Int)) ∷ (Rel relation.Le (Var 0 sort.Int) (Number (pos 100))) ∷ []); locals = ((name_n0, (Of unary.Vi (Var 0 sort.Int))) ∷ []); items = ([]) }); post = (record { opened = []; facts = ((Rel relation.Eq (Var 1 sort.Val) (Of unary.Vi (Number (pos 6)))) ∷ []); locals = []; items = ([]) }) }) (record { temps = (name_n0 ∷ name_s ∷ name_t ∷ name_i ∷ name_x1 ∷ name_d0 ∷ name_p1 ∷ name_q1 ∷ []); body = (c.Then (c.Set 1 (c.Const 3)) (c.Then (c.Set 2 (c.Const 0)) (c.Then (c.Set 1 (c.Binary two.Mul kind.Signed (c.Const 3) (c.Const 2))) (c.Then (c.Set 4 (c.Const 7)) (c.Then (c.Return (Some (c.Temp 1))) c.End))))) }) (s.Then 1 (s.Set ([]) ([])) s.NoBlock (s.Then 2 (s.Set ([]) ([])) s.NoBlock (s.Then 3 (s.Set ([]) ([])) s.NoBlock (s.Then 4 (s.Set ([]) ([])) s.NoBlock (s.Then 5 (s.Set ([]) ([])) s.NoBlock (s.Then 6 (s.Return ([]) ([]) ([])) s.NoBlock s.End)))))) ≡ (RefusedAt 5 2 1)
unfolding computing
random_914 = refl

random_915 : body_verdict (record { predicates = ([]); specs = ((record { is_void = false; name = name_f; params = (name_n0 ∷ []); vars = ((name_a0, sort.Int) ∷ []); pre = (record { opened = []; facts = ((Rel relation.Le (Number (pos 1)) (Var 0 sort.Int)) ∷ (Rel relation.Le (Var 0 sort.Int) (Number (pos 100))) ∷ []); locals = ((name_n0, (Of unary.Vi (Var 0 sort.Int))) ∷ []); items = ([]) }); post = (record { opened = []; facts = ((Rel relation.Eq (Var 1 sort.Val) (Of unary.Vi (Number (pos 6)))) ∷ []); locals = []; items = ([]) }) }) ∷ (record { is_void = false; name = name_main; params = ([]); vars = []; pre = (record { opened = []; facts = ([]); locals = []; items = ([]) }); post = (record { opened = []; facts = ((Rel relation.Eq (Var 0 sort.Val) (Of unary.Vi (Number (pos 0)))) ∷ []); locals = []; items = ([]) }) }) ∷ []) }) (record { is_void = false; name = name_f; params = (name_n0 ∷ []); vars = ((name_a0, sort.Int) ∷ []); pre = (record { opened = []; facts = ((Rel relation.Le (Number (pos 1)) (Var 0 sort.Int)) ∷ (Rel relation.Le (Var 0 sort.Int) (Number (pos 100))) ∷ []); locals = ((name_n0, (Of unary.Vi (Var 0 sort.Int))) ∷ []); items = ([]) }); post = (record { opened = []; facts = ((Rel relation.Eq (Var 1 sort.Val) (Of unary.Vi (Number (pos 6)))) ∷ []); locals = []; items = ([]) }) }) (record { temps = (name_n0 ∷ name_s ∷ name_t ∷ name_i ∷ name_x1 ∷ name_d0 ∷ name_p1 ∷ name_q1 ∷ []); body = (c.Then (c.Set 1 (c.Const 3)) (c.Then (c.Set 2 (c.Const 0)) (c.Then (c.Set 1 (c.Binary two.Mul kind.Signed (c.Const 3) (c.Const 2))) (c.Then (c.Set 4 (c.Const 7)) (c.Then (c.Return (Some (c.Temp 1))) c.End))))) }) (s.Then 1 (s.Set ([]) ([])) s.NoBlock (s.Then 2 (s.Set ([]) ([])) s.NoBlock (s.Then 3 (s.Set ([]) ([])) s.NoBlock (s.Then 4 (s.MakeLock 0 (record { name = name_zz; args = ([]) }) ([]) ([])) s.NoBlock (s.Then 5 (s.Set ([]) ([])) s.NoBlock (s.Then 6 (s.Return ([]) ([]) ([])) s.NoBlock s.End)))))) ≡ (RefusedAt 4 16 1)
unfolding computing
random_915 = refl

random_916 : body_verdict (record { predicates = ([]); specs = ((record { is_void = false; name = name_f; params = (name_n0 ∷ []); vars = ((name_a0, sort.Int) ∷ []); pre = (record { opened = []; facts = ((Rel relation.Le (Number (pos 1)) (Var 0 sort.Int)) ∷ (Rel relation.Le (Var 0 sort.Int) (Number (pos 100))) ∷ []); locals = ((name_n0, (Of unary.Vi (Var 0 sort.Int))) ∷ []); items = ([]) }); post = (record { opened = []; facts = ((Rel relation.Eq (Var 1 sort.Val) (Of unary.Vi (Number (pos 6)))) ∷ []); locals = []; items = ([]) }) }) ∷ (record { is_void = false; name = name_main; params = ([]); vars = []; pre = (record { opened = []; facts = ([]); locals = []; items = ([]) }); post = (record { opened = []; facts = ((Rel relation.Eq (Var 0 sort.Val) (Of unary.Vi (Number (pos 0)))) ∷ []); locals = []; items = ([]) }) }) ∷ []) }) (record { is_void = false; name = name_f; params = (name_n0 ∷ []); vars = ((name_a0, sort.Int) ∷ []); pre = (record { opened = []; facts = ((Rel relation.Le (Number (pos 1)) (Var 0 sort.Int)) ∷ (Rel relation.Le (Var 0 sort.Int) (Number (pos 100))) ∷ []); locals = ((name_n0, (Of unary.Vi (Var 0 sort.Int))) ∷ []); items = ([]) }); post = (record { opened = []; facts = ((Rel relation.Eq (Var 1 sort.Val) (Of unary.Vi (Number (pos 6)))) ∷ []); locals = []; items = ([]) }) }) (record { temps = (name_n0 ∷ name_s ∷ name_t ∷ name_i ∷ name_x1 ∷ name_d0 ∷ name_p1 ∷ name_q1 ∷ []); body = (c.Then (c.Set 1 (c.Const 3)) (c.Then (c.Set 2 (c.Const 1)) (c.Then (c.Set 1 (c.Binary two.Mul kind.Signed (c.Const 3) (c.Const 2))) (c.Then (c.Set 4 (c.Const 7)) (c.Then (c.Return (Some (c.Temp 1))) c.End))))) }) (s.Then 1 (s.Set ([]) ([])) s.NoBlock (s.Then 2 (s.Set ([]) ([])) s.NoBlock (s.Then 3 (s.Set ([]) ([])) s.NoBlock (s.Then 4 (s.Set ([]) ([])) s.NoBlock (s.Then 5 (s.Return ([]) ([]) ([])) s.NoBlock s.End))))) ≡ Accepted
unfolding computing
random_916 = refl

random_917 : body_verdict (record { predicates = ([]); specs = ((record { is_void = false; name = name_f; params = (name_n0 ∷ []); vars = ((name_a0, sort.Int) ∷ []); pre = (record { opened = []; facts = ((Rel relation.Le (Number (pos 1)) (Var 0 sort.Int)) ∷ (Rel relation.Le (Var 0 sort.Int) (Number (pos 100))) ∷ []); locals = ((name_n0, (Of unary.Vi (Var 0 sort.Int))) ∷ []); items = ([]) }); post = (record { opened = []; facts = ((Rel relation.Eq (Var 1 sort.Val) (Of unary.Vi (Number (pos 6)))) ∷ []); locals = []; items = ([]) }) }) ∷ (record { is_void = false; name = name_main; params = ([]); vars = []; pre = (record { opened = []; facts = ([]); locals = []; items = ([]) }); post = (record { opened = []; facts = ((Rel relation.Eq (Var 0 sort.Val) (Of unary.Vi (Number (pos 0)))) ∷ []); locals = []; items = ([]) }) }) ∷ []) }) (record { is_void = false; name = name_f; params = (name_n0 ∷ []); vars = ((name_a0, sort.Int) ∷ []); pre = (record { opened = []; facts = ((Rel relation.Le (Number (pos 1)) (Var 0 sort.Int)) ∷ (Rel relation.Le (Var 0 sort.Int) (Number (pos 100))) ∷ []); locals = ((name_n0, (Of unary.Vi (Var 0 sort.Int))) ∷ []); items = ([]) }); post = (record { opened = []; facts = ((Rel relation.Eq (Var 1 sort.Val) (Of unary.Vi (Number (pos 6)))) ∷ []); locals = []; items = ([]) }) }) (record { temps = (name_n0 ∷ name_s ∷ name_t ∷ name_i ∷ name_x1 ∷ name_d0 ∷ name_p1 ∷ name_q1 ∷ []); body = (c.Then (c.Set 1 (c.Const 3)) (c.Then (c.Set 2 (c.Const 0)) (c.Then (c.Set 1 (c.Binary two.Mul kind.Signed (c.Const 3) (c.Const 2))) (c.Then (c.Set 4 (c.Const 7)) (c.Then (c.Return (Some (c.Temp 1))) c.End))))) }) (s.Then 1 (s.Absurd ([])) s.NoBlock (s.Then 2 (s.Set ([]) ([])) s.NoBlock (s.Then 3 (s.Set ([]) ([])) s.NoBlock (s.Then 4 (s.Set ([]) ([])) s.NoBlock (s.Then 5 (s.Return ([]) ([]) ([])) s.NoBlock s.End))))) ≡ (RefusedAt 1 24 3)
unfolding computing
random_917 = refl

random_918 : body_verdict (record { predicates = ([]); specs = ((record { is_void = false; name = name_f; params = (name_n0 ∷ []); vars = ((name_a0, sort.Int) ∷ []); pre = (record { opened = []; facts = ((Rel relation.Le (Number (pos 1)) (Var 0 sort.Int)) ∷ (Rel relation.Le (Var 0 sort.Int) (Number (pos 100))) ∷ []); locals = ((name_n0, (Of unary.Vi (Var 0 sort.Int))) ∷ []); items = ([]) }); post = (record { opened = []; facts = ((Rel relation.Eq (Var 1 sort.Val) (Of unary.Vi (Number (pos 6)))) ∷ []); locals = []; items = ([]) }) }) ∷ (record { is_void = false; name = name_main; params = ([]); vars = []; pre = (record { opened = []; facts = ([]); locals = []; items = ([]) }); post = (record { opened = []; facts = ((Rel relation.Eq (Var 0 sort.Val) (Of unary.Vi (Number (pos 0)))) ∷ []); locals = []; items = ([]) }) }) ∷ []) }) (record { is_void = false; name = name_f; params = (name_n0 ∷ []); vars = ((name_a0, sort.Int) ∷ []); pre = (record { opened = []; facts = ((Rel relation.Le (Number (pos 1)) (Var 0 sort.Int)) ∷ (Rel relation.Le (Var 0 sort.Int) (Number (pos 100))) ∷ []); locals = ((name_n0, (Of unary.Vi (Var 0 sort.Int))) ∷ []); items = ([]) }); post = (record { opened = []; facts = ((Rel relation.Eq (Var 1 sort.Val) (Of unary.Vi (Number (pos 6)))) ∷ []); locals = []; items = ([]) }) }) (record { temps = (name_n0 ∷ name_s ∷ name_t ∷ name_i ∷ name_x1 ∷ name_d0 ∷ name_p1 ∷ name_q1 ∷ []); body = (c.Then (c.Set 1 (c.Const 3)) (c.Then (c.Set 2 (c.Const 0)) (c.Then (c.Set 1 (c.Binary two.Mul kind.Signed (c.Const 3) (c.Const 2))) (c.Then (c.Set 4 (c.Const 7)) (c.Then (c.Return (Some (c.Temp 1))) c.End))))) }) (s.Then 1 (s.Set ([]) ([])) s.NoBlock (s.Then 2 (s.Set ([]) ([])) s.NoBlock (s.Then 3 (s.Set ([]) ([])) s.NoBlock (s.Then 4 (s.Return ([]) ([]) ([])) s.NoBlock s.End)))) ≡ (RefusedAt 4 9 1)
unfolding computing
random_918 = refl

random_919 : body_verdict (record { predicates = ([]); specs = ((record { is_void = false; name = name_f; params = (name_n0 ∷ []); vars = ((name_a0, sort.Int) ∷ []); pre = (record { opened = []; facts = ((Rel relation.Le (Number (pos 1)) (Var 0 sort.Int)) ∷ (Rel relation.Le (Var 0 sort.Int) (Number (pos 100))) ∷ []); locals = ((name_n0, (Of unary.Vi (Var 0 sort.Int))) ∷ []); items = ([]) }); post = (record { opened = []; facts = ((Rel relation.Eq (Var 1 sort.Val) (Of unary.Vi (Number (pos 6)))) ∷ []); locals = []; items = ([]) }) }) ∷ (record { is_void = false; name = name_main; params = ([]); vars = []; pre = (record { opened = []; facts = ([]); locals = []; items = ([]) }); post = (record { opened = []; facts = ((Rel relation.Eq (Var 0 sort.Val) (Of unary.Vi (Number (pos 0)))) ∷ []); locals = []; items = ([]) }) }) ∷ []) }) (record { is_void = false; name = name_f; params = (name_n0 ∷ []); vars = ((name_a0, sort.Int) ∷ []); pre = (record { opened = []; facts = ((Rel relation.Le (Number (pos 1)) (Var 0 sort.Int)) ∷ (Rel relation.Le (Var 0 sort.Int) (Number (pos 100))) ∷ []); locals = ((name_n0, (Of unary.Vi (Var 0 sort.Int))) ∷ []); items = ([]) }); post = (record { opened = []; facts = ((Rel relation.Eq (Var 1 sort.Val) (Of unary.Vi (Number (pos 6)))) ∷ []); locals = []; items = ([]) }) }) (record { temps = (name_n0 ∷ name_s ∷ name_t ∷ name_i ∷ name_x1 ∷ name_d0 ∷ name_p1 ∷ name_q1 ∷ []); body = (c.Then (c.Set 1 (c.Const 3)) (c.Then (c.Set 2 (c.Const 0)) (c.Then (c.Set 1 (c.Binary two.Mul kind.Signed (c.Const 3) (c.Const 2))) (c.Then (c.Set 4 (c.Const 7)) (c.Then (c.Return (Some (c.Temp 1))) c.End))))) }) (s.Then 1 (s.Set ([]) ([])) s.NoBlock (s.Then 2 (s.Set ([]) ([])) s.NoBlock (s.Then 3 (s.Subst name_a0) s.NoBlock (s.Then 4 (s.Set ([]) ([])) s.NoBlock (s.Then 5 (s.Return ([]) ([]) ([])) s.NoBlock s.End))))) ≡ (RefusedAt 3 27 1)
unfolding computing
random_919 = refl

random_920 : body_verdict (record { predicates = ((record { name = name_E; args = ([]); cases = ((record { opened = []; facts = ([]); locals = []; items = ([]) }) ∷ []) }) ∷ []); specs = ((record { is_void = true; name = name_f; params = (name_s0 ∷ name_s1 ∷ []); vars = ((name_w0, sort.Val) ∷ (name_h0, sort.Int) ∷ (name_q0, sort.Val) ∷ (name_w1, sort.Val) ∷ (name_h1, sort.Int) ∷ (name_q1, sort.Val) ∷ []); pre = (record { opened = []; facts = ((Rel relation.Le (Number (pos 0)) (Var 1 sort.Int)) ∷ (Rel relation.Le (Var 1 sort.Int) (Number (pos 20))) ∷ (Rel relation.Le (Number (pos 0)) (Var 4 sort.Int)) ∷ (Rel relation.Le (Var 4 sort.Int) (Number (pos 20))) ∷ []); locals = ((name_s0, (Var 0 sort.Val)) ∷ (name_s1, (Var 3 sort.Val)) ∷ []); items = ((Data (Number (pos 64)) (Var 0 sort.Val) (Of2 binary.Cons (Of unary.Vi (Var 1 sort.Int)) (Of2 binary.Cons (Var 2 sort.Val) (Of2 binary.Cons (Of unary.Vi (Number (pos 3))) Nil)))) ∷ (Data (Number (pos 64)) (Var 3 sort.Val) (Of2 binary.Cons (Of unary.Vi (Var 4 sort.Int)) (Of2 binary.Cons (Var 5 sort.Val) (Of2 binary.Cons (Of unary.Vi (Number (pos 3))) Nil)))) ∷ []) }); post = (record { opened = (sort.List ∷ sort.List ∷ []); facts = ([]); locals = []; items = ((Data (Number (pos 64)) (Var 0 sort.Val) (Var 7 sort.List)) ∷ (Data (Number (pos 64)) (Var 3 sort.Val) (Var 8 sort.List)) ∷ []) }) }) ∷ (record { is_void = false; name = name_main; params = ([]); vars = []; pre = (record { opened = []; facts = ([]); locals = []; items = ([]) }); post = (record { opened = []; facts = ((Rel relation.Eq (Var 0 sort.Val) (Of unary.Vi (Number (pos 0)))) ∷ []); locals = []; items = ([]) }) }) ∷ []) }) (record { is_void = true; name = name_f; params = (name_s0 ∷ name_s1 ∷ []); vars = ((name_w0, sort.Val) ∷ (name_h0, sort.Int) ∷ (name_q0, sort.Val) ∷ (name_w1, sort.Val) ∷ (name_h1, sort.Int) ∷ (name_q1, sort.Val) ∷ []); pre = (record { opened = []; facts = ((Rel relation.Le (Number (pos 0)) (Var 1 sort.Int)) ∷ (Rel relation.Le (Var 1 sort.Int) (Number (pos 20))) ∷ (Rel relation.Le (Number (pos 0)) (Var 4 sort.Int)) ∷ (Rel relation.Le (Var 4 sort.Int) (Number (pos 20))) ∷ []); locals = ((name_s0, (Var 0 sort.Val)) ∷ (name_s1, (Var 3 sort.Val)) ∷ []); items = ((Data (Number (pos 64)) (Var 0 sort.Val) (Of2 binary.Cons (Of unary.Vi (Var 1 sort.Int)) (Of2 binary.Cons (Var 2 sort.Val) (Of2 binary.Cons (Of unary.Vi (Number (pos 3))) Nil)))) ∷ (Data (Number (pos 64)) (Var 3 sort.Val) (Of2 binary.Cons (Of unary.Vi (Var 4 sort.Int)) (Of2 binary.Cons (Var 5 sort.Val) (Of2 binary.Cons (Of unary.Vi (Number (pos 3))) Nil)))) ∷ []) }); post = (record { opened = (sort.List ∷ sort.List ∷ []); facts = ([]); locals = []; items = ((Data (Number (pos 64)) (Var 0 sort.Val) (Var 7 sort.List)) ∷ (Data (Number (pos 64)) (Var 3 sort.Val) (Var 8 sort.List)) ∷ []) }) }) (record { temps = (name_s0 ∷ name_s1 ∷ name_s ∷ name_t ∷ name_i ∷ name_x1 ∷ name_d0 ∷ name_p1 ∷ name_q1 ∷ []); body = (c.Then (c.Set 2 (c.Const 3)) (c.Then (c.If (c.Nonzero kind.Signed (c.Binary two.Lt kind.Signed (c.Const 2) (c.Const 5))) (c.Then (c.Set 2 (c.Const 2)) c.End) (c.Then (c.Set 2 (c.Binary two.Sub kind.Signed (c.Temp 2) (c.Const 1))) c.End)) (c.Then (c.Store (root.Temp 1) (c.Offset 0 c.Here) (c.Binary two.Add kind.Signed (c.Const 2) (c.Temp 2))) (c.Then (c.Set 5 (c.Const 7)) (c.Then (c.Set 3 (c.Const 2)) (c.Then (c.Return None) c.End)))))) }) (s.Then 1 (s.Set ([]) ([])) s.NoBlock (s.Then 2 (s.If ([]) ([]) ([]) ([])) (s.WithBlock (s.Then 3 (s.Set ([]) ([])) s.NoBlock (s.Then 4 (s.Store 1 ([]) ([])) s.NoBlock (s.Then 5 (s.Set ([]) ([])) s.NoBlock (s.Then 6 (s.Set ([]) ([])) s.NoBlock (s.Then 7 (s.Share 1 (Number (pos 1)) ([])) s.NoBlock (s.Then 8 (s.Unshare 1 2 ([])) s.NoBlock (s.Then 9 (s.Return ((Of2 binary.Cons (Of unary.Vi (Named name_h0)) (Of2 binary.Cons (Named name_q0) (Of2 binary.Cons (Of unary.Vi (Number (pos 3))) Nil))) ∷ (Of2 binary.Cons (Of unary.Vi (Number (pos 4))) (Of2 binary.Cons (Named name_q1) (Of2 binary.Cons (Of unary.Vi (Number (pos 3))) Nil))) ∷ []) ([]) ([])) s.NoBlock s.End))))))) (s.WithBlock (s.Then 10 (s.Absurd ([])) s.NoBlock s.End) s.NoBlock)) s.End)) ≡ Accepted
unfolding computing
random_920 = refl

random_921 : body_verdict (record { predicates = ((record { name = name_E; args = ([]); cases = ((record { opened = []; facts = ([]); locals = []; items = ([]) }) ∷ []) }) ∷ []); specs = ((record { is_void = true; name = name_f; params = (name_s0 ∷ name_s1 ∷ []); vars = ((name_w0, sort.Val) ∷ (name_h0, sort.Int) ∷ (name_q0, sort.Val) ∷ (name_w1, sort.Val) ∷ (name_h1, sort.Int) ∷ (name_q1, sort.Val) ∷ []); pre = (record { opened = []; facts = ((Rel relation.Le (Number (pos 0)) (Var 1 sort.Int)) ∷ (Rel relation.Le (Var 1 sort.Int) (Number (pos 20))) ∷ (Rel relation.Le (Number (pos 0)) (Var 4 sort.Int)) ∷ (Rel relation.Le (Var 4 sort.Int) (Number (pos 20))) ∷ []); locals = ((name_s0, (Var 0 sort.Val)) ∷ (name_s1, (Var 3 sort.Val)) ∷ []); items = ((Data (Number (pos 64)) (Var 0 sort.Val) (Of2 binary.Cons (Of unary.Vi (Var 1 sort.Int)) (Of2 binary.Cons (Var 2 sort.Val) (Of2 binary.Cons (Of unary.Vi (Number (pos 3))) Nil)))) ∷ (Data (Number (pos 64)) (Var 3 sort.Val) (Of2 binary.Cons (Of unary.Vi (Var 4 sort.Int)) (Of2 binary.Cons (Var 5 sort.Val) (Of2 binary.Cons (Of unary.Vi (Number (pos 3))) Nil)))) ∷ []) }); post = (record { opened = (sort.List ∷ sort.List ∷ []); facts = ([]); locals = []; items = ((Data (Number (pos 64)) (Var 0 sort.Val) (Var 7 sort.List)) ∷ (Data (Number (pos 64)) (Var 3 sort.Val) (Var 8 sort.List)) ∷ []) }) }) ∷ (record { is_void = false; name = name_main; params = ([]); vars = []; pre = (record { opened = []; facts = ([]); locals = []; items = ([]) }); post = (record { opened = []; facts = ((Rel relation.Eq (Var 0 sort.Val) (Of unary.Vi (Number (pos 0)))) ∷ []); locals = []; items = ([]) }) }) ∷ []) }) (record { is_void = false; name = name_main; params = ([]); vars = []; pre = (record { opened = []; facts = ([]); locals = []; items = ([]) }); post = (record { opened = []; facts = ((Rel relation.Eq (Var 0 sort.Val) (Of unary.Vi (Number (pos 0)))) ∷ []); locals = []; items = ([]) }) }) (record { temps = ([]); body = (c.Then (c.Return (Some (c.Const 0))) c.End) }) (s.Then 1 (s.Return ([]) ([]) ([])) s.NoBlock s.End) ≡ Accepted
unfolding computing
random_921 = refl

random_922 : body_verdict (record { predicates = ((record { name = name_E; args = ([]); cases = ((record { opened = []; facts = ([]); locals = []; items = ([]) }) ∷ []) }) ∷ []); specs = ((record { is_void = true; name = name_f; params = (name_s0 ∷ name_s1 ∷ []); vars = ((name_w0, sort.Val) ∷ (name_h0, sort.Int) ∷ (name_q0, sort.Val) ∷ (name_w1, sort.Val) ∷ (name_h1, sort.Int) ∷ (name_q1, sort.Val) ∷ []); pre = (record { opened = []; facts = ((Rel relation.Le (Number (pos 0)) (Var 1 sort.Int)) ∷ (Rel relation.Le (Var 1 sort.Int) (Number (pos 20))) ∷ (Rel relation.Le (Number (pos 0)) (Var 4 sort.Int)) ∷ (Rel relation.Le (Var 4 sort.Int) (Number (pos 20))) ∷ []); locals = ((name_s0, (Var 0 sort.Val)) ∷ (name_s1, (Var 3 sort.Val)) ∷ []); items = ((Data (Number (pos 64)) (Var 0 sort.Val) (Of2 binary.Cons (Of unary.Vi (Var 1 sort.Int)) (Of2 binary.Cons (Var 2 sort.Val) (Of2 binary.Cons (Of unary.Vi (Number (pos 3))) Nil)))) ∷ (Data (Number (pos 64)) (Var 3 sort.Val) (Of2 binary.Cons (Of unary.Vi (Var 4 sort.Int)) (Of2 binary.Cons (Var 5 sort.Val) (Of2 binary.Cons (Of unary.Vi (Number (pos 3))) Nil)))) ∷ []) }); post = (record { opened = (sort.List ∷ sort.List ∷ []); facts = ([]); locals = []; items = ((Data (Number (pos 64)) (Var 0 sort.Val) (Var 7 sort.List)) ∷ (Data (Number (pos 64)) (Var 3 sort.Val) (Var 8 sort.List)) ∷ []) }) }) ∷ (record { is_void = false; name = name_main; params = ([]); vars = []; pre = (record { opened = []; facts = ([]); locals = []; items = ([]) }); post = (record { opened = []; facts = ((Rel relation.Eq (Var 0 sort.Val) (Of unary.Vi (Number (pos 0)))) ∷ []); locals = []; items = ([]) }) }) ∷ []) }) (record { is_void = true; name = name_f; params = (name_s0 ∷ name_s1 ∷ []); vars = ((name_w0, sort.Val) ∷ (name_h0, sort.Int) ∷ (name_q0, sort.Val) ∷ (name_w1, sort.Val) ∷ (name_h1, sort.Int) ∷ (name_q1, sort.Val) ∷ []); pre = (record { opened = []; facts = ((Rel relation.Le (Number (pos 0)) (Var 1 sort.Int)) ∷ (Rel relation.Le (Var 1 sort.Int) (Number (pos 20))) ∷ (Rel relation.Le (Number (pos 0)) (Var 4 sort.Int)) ∷ (Rel relation.Le (Var 4 sort.Int) (Number (pos 20))) ∷ []); locals = ((name_s0, (Var 0 sort.Val)) ∷ (name_s1, (Var 3 sort.Val)) ∷ []); items = ((Data (Number (pos 64)) (Var 0 sort.Val) (Of2 binary.Cons (Of unary.Vi (Var 1 sort.Int)) (Of2 binary.Cons (Var 2 sort.Val) (Of2 binary.Cons (Of unary.Vi (Number (pos 3))) Nil)))) ∷ (Data (Number (pos 64)) (Var 3 sort.Val) (Of2 binary.Cons (Of unary.Vi (Var 4 sort.Int)) (Of2 binary.Cons (Var 5 sort.Val) (Of2 binary.Cons (Of unary.Vi (Number (pos 3))) Nil)))) ∷ []) }); post = (record { opened = (sort.List ∷ sort.List ∷ []); facts = ([]); locals = []; items = ((Data (Number (pos 64)) (Var 0 sort.Val) (Var 7 sort.List)) ∷ (Data (Number (pos 64)) (Var 3 sort.Val) (Var 8 sort.List)) ∷ []) }) }) (record { temps = (name_s0 ∷ name_s1 ∷ name_s ∷ name_t ∷ name_i ∷ name_x1 ∷ name_d0 ∷ name_p1 ∷ name_q1 ∷ []); body = (c.Then (c.Set 2 (c.Const 3)) (c.Then (c.If (c.Nonzero kind.Signed (c.Binary two.Lt kind.Signed (c.Const 2) (c.Const 5))) (c.Then (c.Set 2 (c.Const 2)) c.End) (c.Then (c.Set 2 (c.Binary two.Sub kind.Signed (c.Temp 2) (c.Const 1))) c.End)) (c.Then (c.Store (root.Temp 1) (c.Offset 0 c.Here) (c.Binary two.Add kind.Signed (c.Const 2) (c.Temp 2))) (c.Then (c.Set 5 (c.Const 7)) (c.Then (c.Set 3 (c.Const 2)) (c.Then (c.Return None) c.End)))))) }) (s.Then 1 (s.Set ([]) ([])) s.NoBlock (s.Then 2 (s.If ([]) ([]) ([]) ([])) (s.WithBlock (s.Then 3 (s.Set ([]) ([])) s.NoBlock (s.Then 4 (s.Store 1 ([]) ([])) s.NoBlock (s.Then 5 (s.Set ([]) ([])) s.NoBlock (s.Then 6 (s.Set ([]) ([])) s.NoBlock (s.Then 7 (s.Share 1 (Number (pos 1)) ([])) s.NoBlock (s.Then 8 (s.Unshare 1 2 ([])) s.NoBlock (s.Then 9 (s.Return ((Of2 binary.Cons (Of unary.Vi (Named name_h0)) (Of2 binary.Cons (Named name_q0) (Of2 binary.Cons (Of unary.Vi (Number (pos 3))) Nil))) ∷ (Of2 binary.Cons (Of unary.Vi (Number (pos 0))) (Of2 binary.Cons (Named name_q1) (Of2 binary.Cons (Of unary.Vi (Number (pos 3))) Nil))) ∷ []) ([]) ([])) s.NoBlock s.End))))))) (s.WithBlock (s.Then 10 (s.Absurd ([])) s.NoBlock s.End) s.NoBlock)) s.End)) ≡ (RefusedAt 9 9 5)
unfolding computing
random_922 = refl

random_923 : body_verdict (record { predicates = ((record { name = name_E; args = ([]); cases = ((record { opened = []; facts = ([]); locals = []; items = ([]) }) ∷ []) }) ∷ []); specs = ((record { is_void = true; name = name_f; params = (name_s0 ∷ name_s1 ∷ []); vars = ((name_w0, sort.Val) ∷ (name_h0, sort.Int) ∷ (name_q0, sort.Val) ∷ (name_w1, sort.Val) ∷ (name_h1, sort.Int) ∷ (name_q1, sort.Val) ∷ []); pre = (record { opened = []; facts = ((Rel relation.Le (Number (pos 0)) (Var 1 sort.Int)) ∷ (Rel relation.Le (Var 1 sort.Int) (Number (pos 20))) ∷ (Rel relation.Le (Number (pos 0)) (Var 4 sort.Int)) ∷ (Rel relation.Le (Var 4 sort.Int) (Number (pos 20))) ∷ []); locals = ((name_s0, (Var 0 sort.Val)) ∷ (name_s1, (Var 3 sort.Val)) ∷ []); items = ((Data (Number (pos 64)) (Var 0 sort.Val) (Of2 binary.Cons (Of unary.Vi (Var 1 sort.Int)) (Of2 binary.Cons (Var 2 sort.Val) (Of2 binary.Cons (Of unary.Vi (Number (pos 3))) Nil)))) ∷ (Data (Number (pos 64)) (Var 3 sort.Val) (Of2 binary.Cons (Of unary.Vi (Var 4 sort.Int)) (Of2 binary.Cons (Var 5 sort.Val) (Of2 binary.Cons (Of unary.Vi (Number (pos 3))) Nil)))) ∷ []) }); post = (record { opened = (sort.List ∷ sort.List ∷ []); facts = ([]); locals = []; items = ((Data (Number (pos 64)) (Var 0 sort.Val) (Var 7 sort.List)) ∷ (Data (Number (pos 64)) (Var 3 sort.Val) (Var 8 sort.List)) ∷ []) }) }) ∷ (record { is_void = false; name = name_main; params = ([]); vars = []; pre = (record { opened = []; facts = ([]); locals = []; items = ([]) }); post = (record { opened = []; facts = ((Rel relation.Eq (Var 0 sort.Val) (Of unary.Vi (Number (pos 0)))) ∷ []); locals = []; items = ([]) }) }) ∷ []) }) (record { is_void = true; name = name_f; params = (name_s0 ∷ name_s1 ∷ []); vars = ((name_w0, sort.Val) ∷ (name_h0, sort.Int) ∷ (name_q0, sort.Val) ∷ (name_w1, sort.Val) ∷ (name_h1, sort.Int) ∷ (name_q1, sort.Val) ∷ []); pre = (record { opened = []; facts = ((Rel relation.Le (Number (pos 0)) (Var 1 sort.Int)) ∷ (Rel relation.Le (Var 1 sort.Int) (Number (pos 20))) ∷ (Rel relation.Le (Number (pos 0)) (Var 4 sort.Int)) ∷ (Rel relation.Le (Var 4 sort.Int) (Number (pos 20))) ∷ []); locals = ((name_s0, (Var 0 sort.Val)) ∷ (name_s1, (Var 3 sort.Val)) ∷ []); items = ((Data (Number (pos 64)) (Var 0 sort.Val) (Of2 binary.Cons (Of unary.Vi (Var 1 sort.Int)) (Of2 binary.Cons (Var 2 sort.Val) (Of2 binary.Cons (Of unary.Vi (Number (pos 3))) Nil)))) ∷ (Data (Number (pos 64)) (Var 3 sort.Val) (Of2 binary.Cons (Of unary.Vi (Var 4 sort.Int)) (Of2 binary.Cons (Var 5 sort.Val) (Of2 binary.Cons (Of unary.Vi (Number (pos 3))) Nil)))) ∷ []) }); post = (record { opened = (sort.List ∷ sort.List ∷ []); facts = ([]); locals = []; items = ((Data (Number (pos 64)) (Var 0 sort.Val) (Var 7 sort.List)) ∷ (Data (Number (pos 64)) (Var 3 sort.Val) (Var 8 sort.List)) ∷ []) }) }) (record { temps = (name_s0 ∷ name_s1 ∷ name_s ∷ name_t ∷ name_i ∷ name_x1 ∷ name_d0 ∷ name_p1 ∷ name_q1 ∷ []); body = (c.Then (c.Set 2 (c.Const 3)) (c.Then (c.If (c.Nonzero kind.Signed (c.Binary two.Lt kind.Signed (c.Const 2) (c.Const 5))) (c.Then (c.Set 2 (c.Const 2)) c.End) (c.Then (c.Set 2 (c.Binary two.Sub kind.Signed (c.Temp 2) (c.Const 1))) c.End)) (c.Then (c.Store (root.Temp 1) (c.Offset 0 c.Here) (c.Binary two.Rem kind.Signed (c.Const 2) (c.Temp 2))) (c.Then (c.Set 5 (c.Const 7)) (c.Then (c.Set 3 (c.Const 2)) (c.Then (c.Return None) c.End)))))) }) (s.Then 1 (s.Set ([]) ([])) s.NoBlock (s.Then 2 (s.If ([]) ([]) ([]) ([])) (s.WithBlock (s.Then 3 (s.Set ([]) ([])) s.NoBlock (s.Then 4 (s.Store 1 ([]) ([])) s.NoBlock (s.Then 5 (s.Set ([]) ([])) s.NoBlock (s.Then 6 (s.Set ([]) ([])) s.NoBlock (s.Then 7 (s.Share 1 (Number (pos 1)) ([])) s.NoBlock (s.Then 8 (s.Unshare 1 2 ([])) s.NoBlock (s.Then 9 (s.Return ((Of2 binary.Cons (Of unary.Vi (Named name_h0)) (Of2 binary.Cons (Named name_q0) (Of2 binary.Cons (Of unary.Vi (Number (pos 3))) Nil))) ∷ (Of2 binary.Cons (Of unary.Vi (Number (pos 4))) (Of2 binary.Cons (Named name_q1) (Of2 binary.Cons (Of unary.Vi (Number (pos 3))) Nil))) ∷ []) ([]) ([])) s.NoBlock s.End))))))) (s.WithBlock (s.Then 10 (s.Absurd ([])) s.NoBlock s.End) s.NoBlock)) s.End)) ≡ (RefusedAt 9 9 5)
unfolding computing
random_923 = refl

random_924 : body_verdict (record { predicates = ((record { name = name_E; args = ([]); cases = ((record { opened = []; facts = ([]); locals = []; items = ([]) }) ∷ []) }) ∷ []); specs = ((record { is_void = true; name = name_f; params = (name_s0 ∷ name_s1 ∷ []); vars = ((name_w0, sort.Val) ∷ (name_h0, sort.Int) ∷ (name_q0, sort.Val) ∷ (name_w1, sort.Val) ∷ (name_h1, sort.Int) ∷ (name_q1, sort.Val) ∷ []); pre = (record { opened = []; facts = ((Rel relation.Le (Number (pos 0)) (Var 1 sort.Int)) ∷ (Rel relation.Le (Var 1 sort.Int) (Number (pos 20))) ∷ (Rel relation.Le (Number (pos 0)) (Var 4 sort.Int)) ∷ (Rel relation.Le (Var 4 sort.Int) (Number (pos 20))) ∷ []); locals = ((name_s0, (Var 0 sort.Val)) ∷ (name_s1, (Var 3 sort.Val)) ∷ []); items = ((Data (Number (pos 64)) (Var 0 sort.Val) (Of2 binary.Cons (Of unary.Vi (Var 1 sort.Int)) (Of2 binary.Cons (Var 2 sort.Val) (Of2 binary.Cons (Of unary.Vi (Number (pos 3))) Nil)))) ∷ (Data (Number (pos 64)) (Var 3 sort.Val) (Of2 binary.Cons (Of unary.Vi (Var 4 sort.Int)) (Of2 binary.Cons (Var 5 sort.Val) (Of2 binary.Cons (Of unary.Vi (Number (pos 3))) Nil)))) ∷ []) }); post = (record { opened = (sort.List ∷ sort.List ∷ []); facts = ([]); locals = []; items = ((Data (Number (pos 64)) (Var 0 sort.Val) (Var 7 sort.List)) ∷ (Data (Number (pos 64)) (Var 3 sort.Val) (Var 8 sort.List)) ∷ []) }) }) ∷ (record { is_void = false; name = name_main; params = ([]); vars = []; pre = (record { opened = []; facts = ([]); locals = []; items = ([]) }); post = (record { opened = []; facts = ((Rel relation.Eq (Var 0 sort.Val) (Of unary.Vi (Number (pos 0)))) ∷ []); locals = []; items = ([]) }) }) ∷ []) }) (record { is_void = true; name = name_f; params = (name_s0 ∷ name_s1 ∷ []); vars = ((name_w0, sort.Val) ∷ (name_h0, sort.Int) ∷ (name_q0, sort.Val) ∷ (name_w1, sort.Val) ∷ (name_h1, sort.Int) ∷ (name_q1, sort.Val) ∷ []); pre = (record { opened = []; facts = ((Rel relation.Le (Number (pos 0)) (Var 1 sort.Int)) ∷ (Rel relation.Le (Var 1 sort.Int) (Number (pos 20))) ∷ (Rel relation.Le (Number (pos 0)) (Var 4 sort.Int)) ∷ (Rel relation.Le (Var 4 sort.Int) (Number (pos 20))) ∷ []); locals = ((name_s0, (Var 0 sort.Val)) ∷ (name_s1, (Var 3 sort.Val)) ∷ []); items = ((Data (Number (pos 64)) (Var 0 sort.Val) (Of2 binary.Cons (Of unary.Vi (Var 1 sort.Int)) (Of2 binary.Cons (Var 2 sort.Val) (Of2 binary.Cons (Of unary.Vi (Number (pos 3))) Nil)))) ∷ (Data (Number (pos 64)) (Var 3 sort.Val) (Of2 binary.Cons (Of unary.Vi (Var 4 sort.Int)) (Of2 binary.Cons (Var 5 sort.Val) (Of2 binary.Cons (Of unary.Vi (Number (pos 3))) Nil)))) ∷ []) }); post = (record { opened = (sort.List ∷ sort.List ∷ []); facts = ([]); locals = []; items = ((Data (Number (pos 64)) (Var 0 sort.Val) (Var 7 sort.List)) ∷ (Data (Number (pos 64)) (Var 3 sort.Val) (Var 8 sort.List)) ∷ []) }) }) (record { temps = (name_s0 ∷ name_s1 ∷ name_s ∷ name_t ∷ name_i ∷ name_x1 ∷ name_d0 ∷ name_p1 ∷ name_q1 ∷ []); body = (c.Then (c.Set 2 (c.Const 3)) (c.Then (c.If (c.Nonzero kind.Signed (c.Binary two.Lt kind.Signed (c.Const 2) (c.Const 5))) (c.Then (c.Set 2 (c.Const 2)) c.End) (c.Then (c.Set 2 (c.Binary two.Sub kind.Signed (c.Temp 2) (c.Const 1))) c.End)) (c.Then (c.Set 5 (c.Const 7)) (c.Then (c.Set 3 (c.Const 2)) (c.Then (c.Return None) c.End))))) }) (s.Then 1 (s.Set ([]) ([])) s.NoBlock (s.Then 2 (s.If ([]) ([]) ([]) ([])) (s.WithBlock (s.Then 3 (s.Set ([]) ([])) s.NoBlock (s.Then 4 (s.Store 1 ([]) ([])) s.NoBlock (s.Then 5 (s.Set ([]) ([])) s.NoBlock (s.Then 6 (s.Set ([]) ([])) s.NoBlock (s.Then 7 (s.Share 1 (Number (pos 1)) ([])) s.NoBlock (s.Then 8 (s.Unshare 1 2 ([])) s.NoBlock (s.Then 9 (s.Return ((Of2 binary.Cons (Of unary.Vi (Named name_h0)) (Of2 binary.Cons (Named name_q0) (Of2 binary.Cons (Of unary.Vi (Number (pos 3))) Nil))) ∷ (Of2 binary.Cons (Of unary.Vi (Number (pos 4))) (Of2 binary.Cons (Named name_q1) (Of2 binary.Cons (Of unary.Vi (Number (pos 3))) Nil))) ∷ []) ([]) ([])) s.NoBlock s.End))))))) (s.WithBlock (s.Then 10 (s.Absurd ([])) s.NoBlock s.End) s.NoBlock)) s.End)) ≡ (RefusedAt 4 4 1)
unfolding computing
random_924 = refl

random_925 : body_verdict (record { predicates = ((record { name = name_E; args = ([]); cases = ((record { opened = []; facts = ([]); locals = []; items = ([]) }) ∷ []) }) ∷ []); specs = ((record { is_void = true; name = name_f; params = (name_s0 ∷ name_s1 ∷ []); vars = ((name_w0, sort.Val) ∷ (name_h0, sort.Int) ∷ (name_q0, sort.Val) ∷ (name_w1, sort.Val) ∷ (name_h1, sort.Int) ∷ (name_q1, sort.Val) ∷ []); pre = (record { opened = []; facts = ((Rel relation.Le (Number (pos 0)) (Var 1 sort.Int)) ∷ (Rel relation.Le (Var 1 sort.Int) (Number (pos 20))) ∷ (Rel relation.Le (Number (pos 0)) (Var 4 sort.Int)) ∷ (Rel relation.Le (Var 4 sort.Int) (Number (pos 20))) ∷ []); locals = ((name_s0, (Var 0 sort.Val)) ∷ (name_s1, (Var 3 sort.Val)) ∷ []); items = ((Data (Number (pos 64)) (Var 0 sort.Val) (Of2 binary.Cons (Of unary.Vi (Var 1 sort.Int)) (Of2 binary.Cons (Var 2 sort.Val) (Of2 binary.Cons (Of unary.Vi (Number (pos 3))) Nil)))) ∷ (Data (Number (pos 64)) (Var 3 sort.Val) (Of2 binary.Cons (Of unary.Vi (Var 4 sort.Int)) (Of2 binary.Cons (Var 5 sort.Val) (Of2 binary.Cons (Of unary.Vi (Number (pos 3))) Nil)))) ∷ []) }); post = (record { opened = (sort.List ∷ sort.List ∷ []); facts = ([]); locals = []; items = ((Data (Number (pos 64)) (Var 0 sort.Val) (Var 7 sort.List)) ∷ (Data (Number (pos 63)) (Var 3 sort.Val) (Var 8 sort.List)) ∷ []) }) }) ∷ (record { is_void = false; name = name_main; params = ([]); vars = []; pre = (record { opened = []; facts = ([]); locals = []; items = ([]) }); post = (record { opened = []; facts = ((Rel relation.Eq (Var 0 sort.Val) (Of unary.Vi (Number (pos 0)))) ∷ []); locals = []; items = ([]) }) }) ∷ []) }) (record { is_void = true; name = name_f; params = (name_s0 ∷ name_s1 ∷ []); vars = ((name_w0, sort.Val) ∷ (name_h0, sort.Int) ∷ (name_q0, sort.Val) ∷ (name_w1, sort.Val) ∷ (name_h1, sort.Int) ∷ (name_q1, sort.Val) ∷ []); pre = (record { opened = []; facts = ((Rel relation.Le (Number (pos 0)) (Var 1 sort.Int)) ∷ (Rel relation.Le (Var 1 sort.Int) (Number (pos 20))) ∷ (Rel relation.Le (Number (pos 0)) (Var 4 sort.Int)) ∷ (Rel relation.Le (Var 4 sort.Int) (Number (pos 20))) ∷ []); locals = ((name_s0, (Var 0 sort.Val)) ∷ (name_s1, (Var 3 sort.Val)) ∷ []); items = ((Data (Number (pos 64)) (Var 0 sort.Val) (Of2 binary.Cons (Of unary.Vi (Var 1 sort.Int)) (Of2 binary.Cons (Var 2 sort.Val) (Of2 binary.Cons (Of unary.Vi (Number (pos 3))) Nil)))) ∷ (Data (Number (pos 64)) (Var 3 sort.Val) (Of2 binary.Cons (Of unary.Vi (Var 4 sort.Int)) (Of2 binary.Cons (Var 5 sort.Val) (Of2 binary.Cons (Of unary.Vi (Number (pos 3))) Nil)))) ∷ []) }); post = (record { opened = (sort.List ∷ sort.List ∷ []); facts = ([]); locals = []; items = ((Data (Number (pos 64)) (Var 0 sort.Val) (Var 7 sort.List)) ∷ (Data (Number (pos 63)) (Var 3 sort.Val) (Var 8 sort.List)) ∷ []) }) }) (record { temps = (name_s0 ∷ name_s1 ∷ name_s ∷ name_t ∷ name_i ∷ name_x1 ∷ name_d0 ∷ name_p1 ∷ name_q1 ∷ []); body = (c.Then (c.Set 2 (c.Const 3)) (c.Then (c.If (c.Nonzero kind.Signed (c.Binary two.Lt kind.Signed (c.Const 2) (c.Const 5))) (c.Then (c.Set 2 (c.Const 2)) c.End) (c.Then (c.Set 2 (c.Binary two.Sub kind.Signed (c.Temp 2) (c.Const 1))) c.End)) (c.Then (c.Store (root.Temp 1) (c.Offset 0 c.Here) (c.Binary two.Add kind.Signed (c.Const 2) (c.Temp 2))) (c.Then (c.Set 5 (c.Const 7)) (c.Then (c.Set 3 (c.Const 2)) (c.Then (c.Return None) c.End)))))) }) (s.Then 1 (s.Set ([]) ([])) s.NoBlock (s.Then 2 (s.If ([]) ([]) ([]) ([])) (s.WithBlock (s.Then 3 (s.Set ([]) ([])) s.NoBlock (s.Then 4 (s.Store 1 ([]) ([])) s.NoBlock (s.Then 5 (s.Set ([]) ([])) s.NoBlock (s.Then 6 (s.Set ([]) ([])) s.NoBlock (s.Then 7 (s.Share 1 (Number (pos 1)) ([])) s.NoBlock (s.Then 8 (s.Unshare 1 2 ([])) s.NoBlock (s.Then 9 (s.Return ((Of2 binary.Cons (Of unary.Vi (Named name_h0)) (Of2 binary.Cons (Named name_q0) (Of2 binary.Cons (Of unary.Vi (Number (pos 3))) Nil))) ∷ (Of2 binary.Cons (Of unary.Vi (Number (pos 4))) (Of2 binary.Cons (Named name_q1) (Of2 binary.Cons (Of unary.Vi (Number (pos 3))) Nil))) ∷ []) ([]) ([])) s.NoBlock s.End))))))) (s.WithBlock (s.Then 10 (s.Absurd ([])) s.NoBlock s.End) s.NoBlock)) s.End)) ≡ (RefusedAt 9 9 5)
unfolding computing
random_925 = refl

random_926 : body_verdict (record { predicates = ((record { name = name_E; args = ([]); cases = ((record { opened = []; facts = ([]); locals = []; items = ([]) }) ∷ []) }) ∷ []); specs = ((record { is_void = true; name = name_f; params = (name_s0 ∷ name_s1 ∷ []); vars = ((name_w0, sort.Val) ∷ (name_h0, sort.Int) ∷ (name_q0, sort.Val) ∷ (name_w1, sort.Val) ∷ (name_h1, sort.Int) ∷ (name_q1, sort.Val) ∷ []); pre = (record { opened = []; facts = ((Rel relation.Le (Number (pos 0)) (Var 1 sort.Int)) ∷ (Rel relation.Le (Var 1 sort.Int) (Number (pos 20))) ∷ (Rel relation.Le (Number (pos 0)) (Var 4 sort.Int)) ∷ (Rel relation.Le (Var 4 sort.Int) (Number (pos 20))) ∷ []); locals = ((name_s0, (Var 0 sort.Val)) ∷ (name_s1, (Var 3 sort.Val)) ∷ []); items = ((Data (Number (pos 64)) (Var 0 sort.Val) (Of2 binary.Cons (Of unary.Vi (Var 1 sort.Int)) (Of2 binary.Cons (Var 2 sort.Val) (Of2 binary.Cons (Of unary.Vi (Number (pos 3))) Nil)))) ∷ (Data (Number (pos 64)) (Var 3 sort.Val) (Of2 binary.Cons (Of unary.Vi (Var 4 sort.Int)) (Of2 binary.Cons (Var 5 sort.Val) (Of2 binary.Cons (Of unary.Vi (Number (pos 3))) Nil)))) ∷ []) }); post = (record { opened = (sort.List ∷ sort.List ∷ []); facts = ([]); locals = []; items = ((Data (Number (pos 64)) (Var 0 sort.Val) (Var 7 sort.List)) ∷ (Data (Number (pos 63)) (Var 3 sort.Val) (Var 8 sort.List)) ∷ []) }) }) ∷ (record { is_void = false; name = name_main; params = ([]); vars = []; pre = (record { opened = []; facts = ([]); locals = []; items = ([]) }); post = (record { opened = []; facts = ((Rel relation.Eq (Var 0 sort.Val) (Of unary.Vi (Number (pos 0)))) ∷ []); locals = []; items = ([]) }) }) ∷ []) }) (record { is_void = false; name = name_main; params = ([]); vars = []; pre = (record { opened = []; facts = ([]); locals = []; items = ([]) }); post = (record { opened = []; facts = ((Rel relation.Eq (Var 0 sort.Val) (Of unary.Vi (Number (pos 0)))) ∷ []); locals = []; items = ([]) }) }) (record { temps = ([]); body = (c.Then (c.Return (Some (c.Const 0))) c.End) }) (s.Then 1 (s.Return ([]) ([]) ([])) s.NoBlock s.End) ≡ Accepted
unfolding computing
random_926 = refl

random_927 : body_verdict (record { predicates = ((record { name = name_E; args = ([]); cases = ((record { opened = []; facts = ([]); locals = []; items = ([]) }) ∷ []) }) ∷ []); specs = ((record { is_void = true; name = name_f; params = (name_s0 ∷ name_s1 ∷ []); vars = ((name_w0, sort.Val) ∷ (name_h0, sort.Int) ∷ (name_q0, sort.Val) ∷ (name_w1, sort.Val) ∷ (name_h1, sort.Int) ∷ (name_q1, sort.Val) ∷ []); pre = (record { opened = []; facts = ((Rel relation.Le (Number (pos 0)) (Var 1 sort.Int)) ∷ (Rel relation.Le (Var 1 sort.Int) (Number (pos 20))) ∷ (Rel relation.Le (Number (pos 0)) (Var 4 sort.Int)) ∷ (Rel relation.Le (Var 4 sort.Int) (Number (pos 20))) ∷ []); locals = ((name_s0, (Var 0 sort.Val)) ∷ (name_s1, (Var 3 sort.Val)) ∷ []); items = ((Data (Number (pos 64)) (Var 0 sort.Val) (Of2 binary.Cons (Of unary.Vi (Var 1 sort.Int)) (Of2 binary.Cons (Var 2 sort.Val) (Of2 binary.Cons (Of unary.Vi (Number (pos 3))) Nil)))) ∷ (Data (Number (pos 64)) (Var 3 sort.Val) (Of2 binary.Cons (Of unary.Vi (Var 4 sort.Int)) (Of2 binary.Cons (Var 5 sort.Val) (Of2 binary.Cons (Of unary.Vi (Number (pos 3))) Nil)))) ∷ []) }); post = (record { opened = (sort.List ∷ sort.List ∷ []); facts = ([]); locals = []; items = ((Data (Number (pos 64)) (Var 0 sort.Val) (Var 7 sort.List)) ∷ (Data (Number (pos 64)) (Var 3 sort.Val) (Var 8 sort.List)) ∷ []) }) }) ∷ (record { is_void = false; name = name_main; params = ([]); vars = []; pre = (record { opened = []; facts = ([]); locals = []; items = ([]) }); post = (record { opened = []; facts = ((Rel relation.Eq (Var 0 sort.Val) (Of unary.Vi (Number (pos 0)))) ∷ []); locals = []; items = ([]) }) }) ∷ []) }) (record { is_void = true; name = name_f; params = (name_s0 ∷ name_s1 ∷ []); vars = ((name_w0, sort.Val) ∷ (name_h0, sort.Int) ∷ (name_q0, sort.Val) ∷ (name_w1, sort.Val) ∷ (name_h1, sort.Int) ∷ (name_q1, sort.Val) ∷ []); pre = (record { opened = []; facts = ((Rel relation.Le (Number (pos 0)) (Var 1 sort.Int)) ∷ (Rel relation.Le (Var 1 sort.Int) (Number (pos 20))) ∷ (Rel relation.Le (Number (pos 0)) (Var 4 sort.Int)) ∷ (Rel relation.Le (Var 4 sort.Int) (Number (pos 20))) ∷ []); locals = ((name_s0, (Var 0 sort.Val)) ∷ (name_s1, (Var 3 sort.Val)) ∷ []); items = ((Data (Number (pos 64)) (Var 0 sort.Val) (Of2 binary.Cons (Of unary.Vi (Var 1 sort.Int)) (Of2 binary.Cons (Var 2 sort.Val) (Of2 binary.Cons (Of unary.Vi (Number (pos 3))) Nil)))) ∷ (Data (Number (pos 64)) (Var 3 sort.Val) (Of2 binary.Cons (Of unary.Vi (Var 4 sort.Int)) (Of2 binary.Cons (Var 5 sort.Val) (Of2 binary.Cons (Of unary.Vi (Number (pos 3))) Nil)))) ∷ []) }); post = (record { opened = (sort.List ∷ sort.List ∷ []); facts = ([]); locals = []; items = ((Data (Number (pos 64)) (Var 0 sort.Val) (Var 7 sort.List)) ∷ (Data (Number (pos 64)) (Var 3 sort.Val) (Var 8 sort.List)) ∷ []) }) }) (record { temps = (name_s0 ∷ name_s1 ∷ name_s ∷ name_t ∷ name_i ∷ name_x1 ∷ name_d0 ∷ name_p1 ∷ name_q1 ∷ []); body = (c.Then (c.Set 2 (c.Const 3)) (c.Then (c.If (c.Nonzero kind.Signed (c.Binary two.Lt kind.Signed (c.Const 2) (c.Const 5))) (c.Then (c.Set 2 (c.Const 2)) c.End) (c.Then (c.Set 2 (c.Binary two.Sub kind.Signed (c.Temp 2) (c.Const 1))) c.End)) (c.Then (c.Store (root.Temp 1) (c.Offset 0 c.Here) (c.Binary two.Add kind.Signed (c.Const 2) (c.Temp 2))) (c.Then (c.Set 5 (c.Const 7)) (c.Then (c.Set 3 (c.Const 2)) (c.Then (c.Return None) c.End)))))) }) (s.Then 1 (s.Set ([]) ([])) s.NoBlock (s.Then 2 (s.If ([]) ([]) ([]) ([])) (s.WithBlock (s.Then 3 (s.Set ([]) ([])) s.NoBlock (s.Then 4 (s.MakeLock 0 (record { name = name_zz; args = ([]) }) ([]) ([])) s.NoBlock (s.Then 5 (s.Store 1 ([]) ([])) s.NoBlock (s.Then 6 (s.Return ((Of2 binary.Cons (Of unary.Vi (Named name_h0)) (Of2 binary.Cons (Named name_q0) (Of2 binary.Cons (Of unary.Vi (Number (pos 3))) Nil))) ∷ (Of2 binary.Cons (Of unary.Vi (Number (pos 4))) (Of2 binary.Cons (Named name_q1) (Of2 binary.Cons (Of unary.Vi (Number (pos 3))) Nil))) ∷ []) ([]) ([])) s.NoBlock (s.Then 7 (s.Set ([]) ([])) s.NoBlock (s.Then 8 (s.Set ([]) ([])) s.NoBlock (s.Then 9 (s.Share 1 (Number (pos 1)) ([])) s.NoBlock (s.Then 10 (s.Unshare 1 2 ([])) s.NoBlock (s.Then 11 (s.Return ((Of2 binary.Cons (Of unary.Vi (Named name_h0)) (Of2 binary.Cons (Named name_q0) (Of2 binary.Cons (Of unary.Vi (Number (pos 3))) Nil))) ∷ (Of2 binary.Cons (Of unary.Vi (Number (pos 4))) (Of2 binary.Cons (Named name_q1) (Of2 binary.Cons (Of unary.Vi (Number (pos 3))) Nil))) ∷ []) ([]) ([])) s.NoBlock s.End))))))))) (s.WithBlock (s.Then 12 (s.Absurd ([])) s.NoBlock s.End) s.NoBlock)) s.End)) ≡ (RefusedAt 4 16 1)
unfolding computing
random_927 = refl

random_928 : body_verdict (record { predicates = ((record { name = name_E; args = ([]); cases = ((record { opened = []; facts = ([]); locals = []; items = ([]) }) ∷ []) }) ∷ []); specs = ((record { is_void = true; name = name_f; params = (name_s0 ∷ name_s1 ∷ []); vars = ((name_w0, sort.Val) ∷ (name_h0, sort.Int) ∷ (name_q0, sort.Val) ∷ (name_w1, sort.Val) ∷ (name_h1, sort.Int) ∷ (name_q1, sort.Val) ∷ []); pre = (record { opened = []; facts = ((Rel relation.Le (Number (pos 0)) (Var 1 sort.Int)) ∷ (Rel relation.Le (Var 1 sort.Int) (Number (pos 20))) ∷ (Rel relation.Le (Number (pos 0)) (Var 4 sort.Int)) ∷ (Rel relation.Le (Var 4 sort.Int) (Number (pos 20))) ∷ []); locals = ((name_s0, (Var 0 sort.Val)) ∷ (name_s1, (Var 3 sort.Val)) ∷ []); items = ((Data (Number (pos 64)) (Var 0 sort.Val) (Of2 binary.Cons (Of unary.Vi (Var 1 sort.Int)) (Of2 binary.Cons (Var 2 sort.Val) (Of2 binary.Cons (Of unary.Vi (Number (pos 3))) Nil)))) ∷ (Data (Number (pos 64)) (Var 3 sort.Val) (Of2 binary.Cons (Of unary.Vi (Var 4 sort.Int)) (Of2 binary.Cons (Var 5 sort.Val) (Of2 binary.Cons (Of unary.Vi (Number (pos 3))) Nil)))) ∷ []) }); post = (record { opened = (sort.List ∷ sort.List ∷ []); facts = ([]); locals = []; items = ((Data (Number (pos 64)) (Var 0 sort.Val) (Var 7 sort.List)) ∷ (Data (Number (pos 64)) (Var 3 sort.Val) (Var 8 sort.List)) ∷ []) }) }) ∷ (record { is_void = false; name = name_main; params = ([]); vars = []; pre = (record { opened = []; facts = ([]); locals = []; items = ([]) }); post = (record { opened = []; facts = ((Rel relation.Eq (Var 0 sort.Val) (Of unary.Vi (Number (pos 0)))) ∷ []); locals = []; items = ([]) }) }) ∷ []) }) (record { is_void = true; name = name_f; params = (name_s0 ∷ name_s1 ∷ []); vars = ((name_w0, sort.Val) ∷ (name_h0, sort.Int) ∷ (name_q0, sort.Val) ∷ (name_w1, sort.Val) ∷ (name_h1, sort.Int) ∷ (name_q1, sort.Val) ∷ []); pre = (record { opened = []; facts = ((Rel relation.Le (Number (pos 0)) (Var 1 sort.Int)) ∷ (Rel relation.Le (Var 1 sort.Int) (Number (pos 20))) ∷ (Rel relation.Le (Number (pos 0)) (Var 4 sort.Int)) ∷ (Rel relation.Le (Var 4 sort.Int) (Number (pos 20))) ∷ []); locals = ((name_s0, (Var 0 sort.Val)) ∷ (name_s1, (Var 3 sort.Val)) ∷ []); items = ((Data (Number (pos 64)) (Var 0 sort.Val) (Of2 binary.Cons (Of unary.Vi (Var 1 sort.Int)) (Of2 binary.Cons (Var 2 sort.Val) (Of2 binary.Cons (Of unary.Vi (Number (pos 3))) Nil)))) ∷ (Data (Number (pos 64)) (Var 3 sort.Val) (Of2 binary.Cons (Of unary.Vi (Var 4 sort.Int)) (Of2 binary.Cons (Var 5 sort.Val) (Of2 binary.Cons (Of unary.Vi (Number (pos 3))) Nil)))) ∷ []) }); post = (record { opened = (sort.List ∷ sort.List ∷ []); facts = ([]); locals = []; items = ((Data (Number (pos 64)) (Var 0 sort.Val) (Var 7 sort.List)) ∷ (Data (Number (pos 64)) (Var 3 sort.Val) (Var 8 sort.List)) ∷ []) }) }) (record { temps = (name_s0 ∷ name_s1 ∷ name_s ∷ name_t ∷ name_i ∷ name_x1 ∷ name_d0 ∷ name_p1 ∷ name_q1 ∷ []); body = (c.Then (c.Set 2 (c.Const 3)) (c.Then (c.If (c.Nonzero kind.Signed (c.Binary two.Lt kind.Signed (c.Const 2) (c.Const 5))) (c.Then (c.Set 2 (c.Const 2)) c.End) (c.Then (c.Set 2 (c.Binary two.Sub kind.Signed (c.Temp 2) (c.Const 1))) c.End)) (c.Then (c.Store (root.Temp 1) (c.Offset 0 c.Here) (c.Binary two.Add kind.Signed (c.Const 2) (c.Temp 2))) (c.Then (c.Set 5 (c.Const 7)) (c.Then (c.Set 3 (c.Const 2)) (c.Then (c.Return None) c.End)))))) }) (s.Then 1 (s.Set ([]) ([])) s.NoBlock (s.Then 2 (s.If ([]) ([]) ([]) ([])) (s.WithBlock (s.Then 3 (s.Set ([]) ([])) s.NoBlock (s.Then 4 (s.Store 1 ([]) ([])) s.NoBlock (s.Then 5 (s.Set ([]) ([])) s.NoBlock (s.Then 6 (s.Set ([]) ([])) s.NoBlock (s.Then 7 (s.Share 1 (Number (pos 1)) ([])) s.NoBlock (s.Then 8 (s.Unshare 1 2 ([])) s.NoBlock (s.Then 9 (s.Return ((Of2 binary.Cons (Of unary.Vi (Named name_h0)) (Of2 binary.Cons (Named name_q0) (Of2 binary.Cons (Of unary.Vi (Number (pos 3))) Nil))) ∷ (Of2 binary.Cons (Of unary.Vi (Number (pos 4))) (Of2 binary.Cons (Named name_q1) (Of2 binary.Cons (Of unary.Vi (Number (pos 3))) Nil))) ∷ []) ([]) ([])) s.NoBlock s.End))))))) (s.WithBlock (s.Then 10 s.Skip s.NoBlock s.End) s.NoBlock)) s.End)) ≡ (RefusedAt 10 1 1)
unfolding computing
random_928 = refl

random_929 : body_verdict (record { predicates = ((record { name = name_E; args = ([]); cases = ((record { opened = []; facts = ([]); locals = []; items = ([]) }) ∷ []) }) ∷ []); specs = ((record { is_void = true; name = name_f; params = (name_s0 ∷ name_s1 ∷ []); vars = ((name_w0, sort.Val) ∷ (name_h0, sort.Int) ∷ (name_q0, sort.Val) ∷ (name_w1, sort.Val) ∷ (name_h1, sort.Int) ∷ (name_q1, sort.Val) ∷ []); pre = (record { opened = []; facts = ((Rel relation.Le (Number (pos 0)) (Var 1 sort.Int)) ∷ (Rel relation.Le (Var 1 sort.Int) (Number (pos 20))) ∷ (Rel relation.Le (Number (pos 0)) (Var 4 sort.Int)) ∷ (Rel relation.Le (Var 4 sort.Int) (Number (pos 20))) ∷ []); locals = ((name_s0, (Var 0 sort.Val)) ∷ (name_s1, (Var 3 sort.Val)) ∷ []); items = ((Data (Number (pos 64)) (Var 0 sort.Val) (Of2 binary.Cons (Of unary.Vi (Var 1 sort.Int)) (Of2 binary.Cons (Var 2 sort.Val) (Of2 binary.Cons (Of unary.Vi (Number (pos 3))) Nil)))) ∷ (Data (Number (pos 64)) (Var 3 sort.Val) (Of2 binary.Cons (Of unary.Vi (Var 4 sort.Int)) (Of2 binary.Cons (Var 5 sort.Val) (Of2 binary.Cons (Of unary.Vi (Number (pos 3))) Nil)))) ∷ []) }); post = (record { opened = (sort.List ∷ sort.List ∷ []); facts = ([]); locals = []; items = ((Data (Number (pos 64)) (Var 0 sort.Val) (Var 7 sort.List)) ∷ (Data (Number (pos 64)) (Var 3 sort.Val) (Var 8 sort.List)) ∷ []) }) }) ∷ (record { is_void = false; name = name_main; params = ([]); vars = []; pre = (record { opened = []; facts = ([]); locals = []; items = ([]) }); post = (record { opened = []; facts = ((Rel relation.Eq (Var 0 sort.Val) (Of unary.Vi (Number (pos 0)))) ∷ []); locals = []; items = ([]) }) }) ∷ []) }) (record { is_void = true; name = name_f; params = (name_s0 ∷ name_s1 ∷ []); vars = ((name_w0, sort.Val) ∷ (name_h0, sort.Int) ∷ (name_q0, sort.Val) ∷ (name_w1, sort.Val) ∷ (name_h1, sort.Int) ∷ (name_q1, sort.Val) ∷ []); pre = (record { opened = []; facts = ((Rel relation.Le (Number (pos 0)) (Var 1 sort.Int)) ∷ (Rel relation.Le (Var 1 sort.Int) (Number (pos 20))) ∷ (Rel relation.Le (Number (pos 0)) (Var 4 sort.Int)) ∷ (Rel relation.Le (Var 4 sort.Int) (Number (pos 20))) ∷ []); locals = ((name_s0, (Var 0 sort.Val)) ∷ (name_s1, (Var 3 sort.Val)) ∷ []); items = ((Data (Number (pos 64)) (Var 0 sort.Val) (Of2 binary.Cons (Of unary.Vi (Var 1 sort.Int)) (Of2 binary.Cons (Var 2 sort.Val) (Of2 binary.Cons (Of unary.Vi (Number (pos 3))) Nil)))) ∷ (Data (Number (pos 64)) (Var 3 sort.Val) (Of2 binary.Cons (Of unary.Vi (Var 4 sort.Int)) (Of2 binary.Cons (Var 5 sort.Val) (Of2 binary.Cons (Of unary.Vi (Number (pos 3))) Nil)))) ∷ []) }); post = (record { opened = (sort.List ∷ sort.List ∷ []); facts = ([]); locals = []; items = ((Data (Number (pos 64)) (Var 0 sort.Val) (Var 7 sort.List)) ∷ (Data (Number (pos 64)) (Var 3 sort.Val) (Var 8 sort.List)) ∷ []) }) }) (record { temps = (name_s0 ∷ name_s1 ∷ name_s ∷ name_t ∷ name_x1 ∷ name_d0 ∷ name_p1 ∷ name_q1 ∷ []); body = (c.Then (c.Set 2 (c.Const 3)) (c.Then (c.If (c.Nonzero kind.Signed (c.Binary two.Lt kind.Signed (c.Const 2) (c.Const 5))) (c.Then (c.Set 2 (c.Const 2)) c.End) (c.Then (c.Set 2 (c.Binary two.Sub kind.Signed (c.Temp 2) (c.Const 1))) c.End)) (c.Then (c.Store (root.Temp 1) (c.Offset 0 c.Here) (c.Binary two.Add kind.Signed (c.Const 2) (c.Temp 2))) (c.Then (c.Set 4 (c.Const 7)) (c.Then (c.Set 3 (c.Const 2)) (c.Then (c.Return None) c.End)))))) }) (s.Then 1 (s.Set ([]) ([])) s.NoBlock (s.Then 2 (s.If ([]) ([]) ([]) ([])) (s.WithBlock (s.Then 3 (s.Set ([]) ([])) s.NoBlock (s.Then 4 (s.Set ([]) ([])) s.NoBlock (s.Then 5 (s.Store 1 ([]) ([])) s.NoBlock (s.Then 6 (s.Set ([]) ([])) s.NoBlock (s.Then 7 (s.Share 1 (Number (pos 1)) ([])) s.NoBlock (s.Then 8 (s.Unshare 1 2 ([])) s.NoBlock (s.Then 9 (s.Return ((Of2 binary.Cons (Of unary.Vi (Named name_h0)) (Of2 binary.Cons (Named name_q0) (Of2 binary.Cons (Of unary.Vi (Number (pos 3))) Nil))) ∷ (Of2 binary.Cons (Of unary.Vi (Number (pos 4))) (Of2 binary.Cons (Named name_q1) (Of2 binary.Cons (Of unary.Vi (Number (pos 3))) Nil))) ∷ []) ([]) ([])) s.NoBlock s.End))))))) (s.WithBlock (s.Then 10 (s.Absurd ([])) s.NoBlock s.End) s.NoBlock)) s.End)) ≡ (RefusedAt 4 2 1)
unfolding computing
random_929 = refl

random_930 : body_verdict (record { predicates = ((record { name = name_E; args = ([]); cases = ((record { opened = []; facts = ([]); locals = []; items = ([]) }) ∷ []) }) ∷ []); specs = ((record { is_void = true; name = name_f; params = (name_s0 ∷ name_s1 ∷ []); vars = ((name_w0, sort.Val) ∷ (name_h0, sort.Int) ∷ (name_q0, sort.Val) ∷ (name_w1, sort.Val) ∷ (name_h1, sort.Int) ∷ (name_q1, sort.Val) ∷ []); pre = (record { opened = []; facts = ((Rel relation.Le (Number (pos 0)) (Var 1 sort.Int)) ∷ (Rel relation.Le (Var 1 sort.Int) (Number (pos 20))) ∷ (Rel relation.Le (Number (pos 0)) (Var 4 sort.Int)) ∷ (Rel relation.Le (Var 4 sort.Int) (Number (pos 20))) ∷ []); locals = ((name_s0, (Var 0 sort.Val)) ∷ (name_s1, (Var 3 sort.Val)) ∷ []); items = ((Data (Number (pos 64)) (Var 0 sort.Val) (Of2 binary.Cons (Of unary.Vi (Var 1 sort.Int)) (Of2 binary.Cons (Var 2 sort.Val) (Of2 binary.Cons (Of unary.Vi (Number (pos 3))) Nil)))) ∷ (Data (Number (pos 64)) (Var 3 sort.Val) (Of2 binary.Cons (Of unary.Vi (Var 4 sort.Int)) (Of2 binary.Cons (Var 5 sort.Val) (Of2 binary.Cons (Of unary.Vi (Number (pos 3))) Nil)))) ∷ []) }); post = (record { opened = (sort.List ∷ sort.List ∷ []); facts = ([]); locals = []; items = ((Data (Number (pos 64)) (Var 0 sort.Val) (Var 7 sort.List)) ∷ (Data (Number (pos 64)) (Var 3 sort.Val) (Var 8 sort.List)) ∷ []) }) }) ∷ (record { is_void = false; name = name_main; params = ([]); vars = []; pre = (record { opened = []; facts = ([]); locals = []; items = ([]) }); post = (record { opened = []; facts = ((Rel relation.Eq (Var 0 sort.Val) (Of unary.Vi (Number (pos 0)))) ∷ []); locals = []; items = ([]) }) }) ∷ []) }) (record { is_void = true; name = name_f; params = (name_s0 ∷ name_s1 ∷ []); vars = ((name_w0, sort.Val) ∷ (name_h0, sort.Int) ∷ (name_q0, sort.Val) ∷ (name_w1, sort.Val) ∷ (name_h1, sort.Int) ∷ (name_q1, sort.Val) ∷ []); pre = (record { opened = []; facts = ((Rel relation.Le (Number (pos 0)) (Var 1 sort.Int)) ∷ (Rel relation.Le (Var 1 sort.Int) (Number (pos 20))) ∷ (Rel relation.Le (Number (pos 0)) (Var 4 sort.Int)) ∷ (Rel relation.Le (Var 4 sort.Int) (Number (pos 20))) ∷ []); locals = ((name_s0, (Var 0 sort.Val)) ∷ (name_s1, (Var 3 sort.Val)) ∷ []); items = ((Data (Number (pos 64)) (Var 0 sort.Val) (Of2 binary.Cons (Of unary.Vi (Var 1 sort.Int)) (Of2 binary.Cons (Var 2 sort.Val) (Of2 binary.Cons (Of unary.Vi (Number (pos 3))) Nil)))) ∷ (Data (Number (pos 64)) (Var 3 sort.Val) (Of2 binary.Cons (Of unary.Vi (Var 4 sort.Int)) (Of2 binary.Cons (Var 5 sort.Val) (Of2 binary.Cons (Of unary.Vi (Number (pos 3))) Nil)))) ∷ []) }); post = (record { opened = (sort.List ∷ sort.List ∷ []); facts = ([]); locals = []; items = ((Data (Number (pos 64)) (Var 0 sort.Val) (Var 7 sort.List)) ∷ (Data (Number (pos 64)) (Var 3 sort.Val) (Var 8 sort.List)) ∷ []) }) }) (record { temps = (name_s0 ∷ name_s1 ∷ name_s ∷ name_t ∷ name_i ∷ name_x1 ∷ name_d0 ∷ name_p1 ∷ name_q1 ∷ []); body = (c.Then (c.Set 2 (c.Const 3)) (c.Then (c.If (c.Nonzero kind.Signed (c.Binary two.Lt kind.Signed (c.Const 2) (c.Const 5))) (c.Then (c.Set 2 (c.Const 2)) c.End) (c.Then (c.Set 2 (c.Binary two.Sub kind.Signed (c.Temp 2) (c.Const 1))) c.End)) (c.Then (c.Store (root.Temp 1) (c.Offset 0 c.Here) (c.Binary two.Add kind.Signed (c.Const 2) (c.Temp 2))) (c.Then (c.Set 5 (c.Const 7)) (c.Then (c.Set 3 (c.Const 2)) (c.Then (c.Return None) c.End)))))) }) (s.Then 1 (s.Set ([]) ([])) s.NoBlock (s.Then 2 (s.If ([]) ([]) ([]) ([])) (s.WithBlock (s.Then 3 (s.Absurd ([])) s.NoBlock (s.Then 4 (s.Store 1 ([]) ([])) s.NoBlock (s.Then 5 (s.Set ([]) ([])) s.NoBlock (s.Then 6 (s.Set ([]) ([])) s.NoBlock (s.Then 7 (s.Share 1 (Number (pos 1)) ([])) s.NoBlock (s.Then 8 (s.Unshare 1 2 ([])) s.NoBlock (s.Then 9 (s.Return ((Of2 binary.Cons (Of unary.Vi (Named name_h0)) (Of2 binary.Cons (Named name_q0) (Of2 binary.Cons (Of unary.Vi (Number (pos 3))) Nil))) ∷ (Of2 binary.Cons (Of unary.Vi (Number (pos 4))) (Of2 binary.Cons (Named name_q1) (Of2 binary.Cons (Of unary.Vi (Number (pos 3))) Nil))) ∷ []) ([]) ([])) s.NoBlock s.End))))))) (s.WithBlock (s.Then 10 (s.Absurd ([])) s.NoBlock s.End) s.NoBlock)) s.End)) ≡ (RefusedAt 3 24 3)
unfolding computing
random_930 = refl

random_931 : body_verdict (record { predicates = ((record { name = name_E; args = ([]); cases = ((record { opened = []; facts = ([]); locals = []; items = ([]) }) ∷ []) }) ∷ []); specs = ((record { is_void = true; name = name_f; params = (name_s0 ∷ name_s1 ∷ []); vars = ((name_w0, sort.Val) ∷ (name_h0, sort.Int) ∷ (name_q0, sort.Val) ∷ (name_w1, sort.Val) ∷ (name_h1, sort.Int) ∷ (name_q1, sort.Val) ∷ []); pre = (record { opened = []; facts = ((Rel relation.Le (Number (pos 0)) (Var 1 sort.Int)) ∷ (Rel relation.Le (Var 1 sort.Int) (Number (pos 20))) ∷ (Rel relation.Le (Number (pos 0)) (Var 4 sort.Int)) ∷ (Rel relation.Le (Var 4 sort.Int) (Number (pos 20))) ∷ []); locals = ((name_s0, (Var 0 sort.Val)) ∷ (name_s1, (Var 3 sort.Val)) ∷ []); items = ((Data (Number (pos 64)) (Var 0 sort.Val) (Of2 binary.Cons (Of unary.Vi (Var 1 sort.Int)) (Of2 binary.Cons (Var 2 sort.Val) (Of2 binary.Cons (Of unary.Vi (Number (pos 3))) Nil)))) ∷ (Data (Number (pos 64)) (Var 3 sort.Val) (Of2 binary.Cons (Of unary.Vi (Var 4 sort.Int)) (Of2 binary.Cons (Var 5 sort.Val) (Of2 binary.Cons (Of unary.Vi (Number (pos 3))) Nil)))) ∷ []) }); post = (record { opened = (sort.List ∷ sort.List ∷ []); facts = ([]); locals = []; items = ((Data (Number (pos 64)) (Var 0 sort.Val) (Var 7 sort.List)) ∷ (Data (Number (pos 64)) (Var 3 sort.Val) (Var 8 sort.List)) ∷ []) }) }) ∷ (record { is_void = false; name = name_main; params = ([]); vars = []; pre = (record { opened = []; facts = ([]); locals = []; items = ([]) }); post = (record { opened = []; facts = ((Rel relation.Eq (Var 0 sort.Val) (Of unary.Vi (Number (pos 0)))) ∷ []); locals = []; items = ([]) }) }) ∷ []) }) (record { is_void = true; name = name_f; params = (name_s0 ∷ name_s1 ∷ []); vars = ((name_w0, sort.Val) ∷ (name_h0, sort.Int) ∷ (name_q0, sort.Val) ∷ (name_w1, sort.Val) ∷ (name_h1, sort.Int) ∷ (name_q1, sort.Val) ∷ []); pre = (record { opened = []; facts = ((Rel relation.Le (Number (pos 0)) (Var 1 sort.Int)) ∷ (Rel relation.Le (Var 1 sort.Int) (Number (pos 20))) ∷ (Rel relation.Le (Number (pos 0)) (Var 4 sort.Int)) ∷ (Rel relation.Le (Var 4 sort.Int) (Number (pos 20))) ∷ []); locals = ((name_s0, (Var 0 sort.Val)) ∷ (name_s1, (Var 3 sort.Val)) ∷ []); items = ((Data (Number (pos 64)) (Var 0 sort.Val) (Of2 binary.Cons (Of unary.Vi (Var 1 sort.Int)) (Of2 binary.Cons (Var 2 sort.Val) (Of2 binary.Cons (Of unary.Vi (Number (pos 3))) Nil)))) ∷ (Data (Number (pos 64)) (Var 3 sort.Val) (Of2 binary.Cons (Of unary.Vi (Var 4 sort.Int)) (Of2 binary.Cons (Var 5 sort.Val) (Of2 binary.Cons (Of unary.Vi (Number (pos 3))) Nil)))) ∷ []) }); post = (record { opened = (sort.List ∷ sort.List ∷ []); facts = ([]); locals = []; items = ((Data (Number (pos 64)) (Var 0 sort.Val) (Var 7 sort.List)) ∷ (Data (Number (pos 64)) (Var 3 sort.Val) (Var 8 sort.List)) ∷ []) }) }) (record { temps = (name_s0 ∷ name_s1 ∷ name_s ∷ name_t ∷ name_i ∷ name_x1 ∷ name_d0 ∷ name_p1 ∷ name_q1 ∷ []); body = (c.Then (c.Set 2 (c.Const 3)) (c.Then (c.If (c.Nonzero kind.Signed (c.Binary two.Lt kind.Signed (c.Const 2) (c.Const 5))) (c.Then (c.Set 2 (c.Const 2)) c.End) (c.Then (c.Set 2 (c.Binary two.Sub kind.Signed (c.Temp 2) (c.Const 1))) c.End)) (c.Then (c.Store (root.Temp 1) (c.Offset 0 c.Here) (c.Binary two.Add kind.Signed (c.Const 2) (c.Temp 2))) (c.Then (c.Set 5 (c.Const 7)) (c.Then (c.Set 3 (c.Const 2)) (c.Then (c.Return None) c.End)))))) }) (s.Then 1 (s.Set ([]) ([])) s.NoBlock (s.Then 2 (s.If ([]) ([]) ([]) ([])) (s.WithBlock (s.Then 3 (s.Store 1 ([]) ([])) s.NoBlock (s.Then 4 (s.Set ([]) ([])) s.NoBlock (s.Then 5 (s.Set ([]) ([])) s.NoBlock (s.Then 6 (s.Set ([]) ([])) s.NoBlock (s.Then 7 (s.Share 1 (Number (pos 1)) ([])) s.NoBlock (s.Then 8 (s.Unshare 1 2 ([])) s.NoBlock (s.Then 9 (s.Return ((Of2 binary.Cons (Of unary.Vi (Named name_h0)) (Of2 binary.Cons (Named name_q0) (Of2 binary.Cons (Of unary.Vi (Number (pos 3))) Nil))) ∷ (Of2 binary.Cons (Of unary.Vi (Number (pos 4))) (Of2 binary.Cons (Named name_q1) (Of2 binary.Cons (Of unary.Vi (Number (pos 3))) Nil))) ∷ []) ([]) ([])) s.NoBlock s.End))))))) (s.WithBlock (s.Then 10 (s.Absurd ([])) s.NoBlock s.End) s.NoBlock)) s.End)) ≡ (RefusedAt 3 4 1)
unfolding computing
random_931 = refl

random_932 : body_verdict (record { predicates = ([]); specs = ((record { is_void = false; name = name_main; params = ([]); vars = []; pre = (record { opened = []; facts = ([]); locals = []; items = ((Data (Number (pos 64)) (Global name_z) (Of2 binary.Rep (Of unary.Vi (Number (pos 0))) (Number (pos 2000)))) ∷ []) }); post = (record { opened = []; facts = ([]); locals = []; items = ([]) }) }) ∷ []) }) (record { is_void = false; name = name_main; params = ([]); vars = []; pre = (record { opened = []; facts = ([]); locals = []; items = ((Data (Number (pos 64)) (Global name_z) (Of2 binary.Rep (Of unary.Vi (Number (pos 0))) (Number (pos 2000)))) ∷ []) }); post = (record { opened = []; facts = ([]); locals = []; items = ([]) }) }) (record { temps = ([]); body = (c.Then (c.Return (Some (c.Const 0))) c.End) }) (s.Then 1 (s.Return ([]) ([]) ([])) s.NoBlock s.End) ≡ (RefusedAt 1 9 5)
unfolding computing
random_932 = refl

random_933 : init_verdict (record { predicates = ([]); specs = ((record { is_void = false; name = name_main; params = ([]); vars = []; pre = (record { opened = []; facts = ([]); locals = []; items = ((Data (Number (pos 64)) (Global name_z) (Of2 binary.Rep (Of unary.Vi (Number (pos 0))) (Number (pos 2000)))) ∷ []) }); post = (record { opened = []; facts = ([]); locals = []; items = ([]) }) }) ∷ []) }) ((record { name = name_z; cells = 2000; values = ([]) }) ∷ []) (record { opened = []; facts = ([]); locals = []; items = ((Data (Number (pos 64)) (Global name_z) (Of2 binary.Rep (Of unary.Vi (Number (pos 0))) (Number (pos 2000)))) ∷ []) }) (s.Then 1 (s.Meet ([]) ([])) s.NoBlock s.End) ≡ (RefusedAt 0 0 12)
unfolding computing
random_933 = refl

random_934 : body_verdict (record { predicates = ([]); specs = ((record { is_void = false; name = name_main; params = ([]); vars = []; pre = (record { opened = []; facts = ([]); locals = []; items = ((Data (Number (pos 64)) (Global name_z) (Of2 binary.Rep (Of unary.Vi (Number (pos 0))) (Number (pos 999)))) ∷ []) }); post = (record { opened = []; facts = ([]); locals = []; items = ([]) }) }) ∷ []) }) (record { is_void = false; name = name_main; params = ([]); vars = []; pre = (record { opened = []; facts = ([]); locals = []; items = ((Data (Number (pos 64)) (Global name_z) (Of2 binary.Rep (Of unary.Vi (Number (pos 0))) (Number (pos 999)))) ∷ []) }); post = (record { opened = []; facts = ([]); locals = []; items = ([]) }) }) (record { temps = ([]); body = (c.Then (c.Return (Some (c.Const 0))) c.End) }) (s.Then 1 (s.Return ([]) ([]) ([])) s.NoBlock s.End) ≡ (RefusedAt 1 9 5)
unfolding computing
random_934 = refl

random_935 : init_verdict (record { predicates = ([]); specs = ((record { is_void = false; name = name_main; params = ([]); vars = []; pre = (record { opened = []; facts = ([]); locals = []; items = ((Data (Number (pos 64)) (Global name_z) (Of2 binary.Rep (Of unary.Vi (Number (pos 0))) (Number (pos 999)))) ∷ []) }); post = (record { opened = []; facts = ([]); locals = []; items = ([]) }) }) ∷ []) }) ((record { name = name_z; cells = 999; values = ([]) }) ∷ []) (record { opened = []; facts = ([]); locals = []; items = ((Data (Number (pos 64)) (Global name_z) (Of2 binary.Rep (Of unary.Vi (Number (pos 0))) (Number (pos 999)))) ∷ []) }) (s.Then 1 (s.Meet ([]) ([])) s.NoBlock s.End) ≡ (RefusedAt 0 0 12)
unfolding computing
random_935 = refl

random_936 : body_verdict (record { predicates = ((record { name = name_iv; args = ([]); cases = ((record { opened = (sort.Int ∷ []); facts = ((Rel relation.Le (Number (pos 0)) (Var 0 sort.Int)) ∷ (Rel relation.Le (Var 0 sort.Int) (Number (pos 50))) ∷ []); locals = []; items = ((Data (Number (pos 64)) (Global name_x) (Of2 binary.Cons (Of unary.Vi (Var 0 sort.Int)) Nil)) ∷ []) }) ∷ []) }) ∷ []); specs = ((record { is_void = false; name = name_main; params = ([]); vars = []; pre = (record { opened = []; facts = ([]); locals = []; items = ((Data (Number (pos 64)) (Global name_x) (Of2 binary.Cons (Of unary.Vi (Number (pos 3))) Nil)) ∷ (Data (Number (pos 64)) (Global name_g) (Of2 binary.Cons (Of unary.Vi (Number (pos 3))) Nil)) ∷ (Data (Number (pos 64)) (Global name_arr) (Of2 binary.Cons (Of unary.Vi (Number (pos 1))) (Of2 binary.Cons (Of unary.Vi (Number (pos 2))) (Of2 binary.Cons (Of unary.Vi (Number (pos 0))) (Of2 binary.Cons (Of unary.Vi (Number (pos 0))) Nil))))) ∷ (Data (Number (pos 64)) (Global name_l) (Of2 binary.Cons (Of unary.Vi (Number (pos 0))) Nil)) ∷ []) }); post = (record { opened = []; facts = ((Rel relation.Eq (Var 0 sort.Val) (Of unary.Vi (Number (pos 7)))) ∷ []); locals = []; items = ((Data (Number (pos 64)) (Global name_g) (Of2 binary.Cons (Of unary.Vi (Number (pos 3))) Nil)) ∷ (Data (Number (pos 64)) (Global name_arr) (Of2 binary.Cons (Of unary.Vi (Number (pos 1))) (Of2 binary.Cons (Of unary.Vi (Number (pos 2))) (Of2 binary.Cons (Of unary.Vi (Number (pos 0))) (Of2 binary.Cons (Of unary.Vi (Number (pos 0))) Nil))))) ∷ (Pred (record { name = name_iv; args = ([]) })) ∷ (Data (Number (pos 64)) (Global name_l) (Of2 binary.Cons Undef Nil)) ∷ []) }) }) ∷ []) }) (record { is_void = false; name = name_main; params = ([]); vars = []; pre = (record { opened = []; facts = ([]); locals = []; items = ((Data (Number (pos 64)) (Global name_x) (Of2 binary.Cons (Of unary.Vi (Number (pos 3))) Nil)) ∷ (Data (Number (pos 64)) (Global name_g) (Of2 binary.Cons (Of unary.Vi (Number (pos 3))) Nil)) ∷ (Data (Number (pos 64)) (Global name_arr) (Of2 binary.Cons (Of unary.Vi (Number (pos 1))) (Of2 binary.Cons (Of unary.Vi (Number (pos 2))) (Of2 binary.Cons (Of unary.Vi (Number (pos 0))) (Of2 binary.Cons (Of unary.Vi (Number (pos 0))) Nil))))) ∷ (Data (Number (pos 64)) (Global name_l) (Of2 binary.Cons (Of unary.Vi (Number (pos 0))) Nil)) ∷ []) }); post = (record { opened = []; facts = ((Rel relation.Eq (Var 0 sort.Val) (Of unary.Vi (Number (pos 7)))) ∷ []); locals = []; items = ((Data (Number (pos 64)) (Global name_g) (Of2 binary.Cons (Of unary.Vi (Number (pos 3))) Nil)) ∷ (Data (Number (pos 64)) (Global name_arr) (Of2 binary.Cons (Of unary.Vi (Number (pos 1))) (Of2 binary.Cons (Of unary.Vi (Number (pos 2))) (Of2 binary.Cons (Of unary.Vi (Number (pos 0))) (Of2 binary.Cons (Of unary.Vi (Number (pos 0))) Nil))))) ∷ (Pred (record { name = name_iv; args = ([]) })) ∷ (Data (Number (pos 64)) (Global name_l) (Of2 binary.Cons Undef Nil)) ∷ []) }) }) (record { temps = (name_s ∷ name_t ∷ name_i ∷ name_x1 ∷ name_d0 ∷ name_p1 ∷ name_q1 ∷ []); body = (c.Then (c.Set 0 (c.Const 2)) (c.Then (c.OnLock lock.Make (c.Address (root.Global name_l 1) c.Here)) (c.Then (c.OnLock lock.Release (c.Address (root.Global name_l 1) c.Here)) (c.Then (c.Load 0 (root.Global name_arr 4) (c.Index kind.Signed (c.Const 1) c.Here)) (c.Then (c.Load 1 (root.Global name_arr 4) (c.Index kind.Signed (c.Const 0) c.Here)) (c.Then (c.Set 0 (c.Const 1)) (c.Then (c.Set 4 (c.Binary two.Add kind.Signed (c.Const 1) (c.Const 1))) (c.Then (c.Set 4 (c.Const 2)) (c.Then (c.Set 0 (c.Binary two.Add kind.Signed (c.Temp 4) (c.Const 1))) (c.Then (c.OnLock lock.Acquire (c.Address (root.Global name_l 1) c.Here)) (c.Then (c.Load 1 (root.Global name_x 1) c.Here) (c.Then (c.OnLock lock.Release (c.Address (root.Global name_l 1) c.Here)) (c.Then (c.OnLock lock.Acquire (c.Address (root.Global name_l 1) c.Here)) (c.Then (c.OnLock lock.Free (c.Address (root.Global name_l 1) c.Here)) (c.Then (c.Return (Some (c.Const 7))) c.End))))))))))))))) }) (s.Then 1 (s.Set ([]) ([])) s.NoBlock (s.Then 2 (s.MakeLock 3 (record { name = name_iv; args = ([]) }) ([]) ([])) s.NoBlock (s.Then 3 (s.Fold name_iv 0 ([]) ((Number (pos 3)) ∷ []) ([])) s.NoBlock (s.Then 4 (s.Release 3 4 ([])) s.NoBlock (s.Then 5 (s.Load 1 ([]) ([])) s.NoBlock (s.Then 6 (s.Load 1 ([]) ([])) s.NoBlock (s.Then 7 (s.Set ([]) ([])) s.NoBlock (s.Then 8 (s.Block 3 (record { opened = []; facts = ([]); locals = ((name_s, (Of unary.Vi (Number (pos 3)))) ∷ (name_t, (Of unary.Vi (Number (pos 1)))) ∷ (name_d0, (Of unary.Vi (Number (pos 2)))) ∷ []); items = ((Data (Number (pos 64)) (Global name_g) (Of2 binary.Cons (Of unary.Vi (Number (pos 3))) Nil)) ∷ (Data (Number (pos 64)) (Global name_arr) (Of2 binary.Cons (Of unary.Vi (Number (pos 1))) (Of2 binary.Cons (Of unary.Vi (Number (pos 2))) (Of2 binary.Cons (Of unary.Vi (Number (pos 0))) (Of2 binary.Cons (Of unary.Vi (Number (pos 0))) Nil))))) ∷ (Lock (Number (pos 64)) (Global name_l) (record { name = name_iv; args = ([]) })) ∷ []) }) ([]) ([])) (s.WithBlock (s.Then 9 (s.Set ([]) ([])) s.NoBlock (s.Then 10 (s.Set ([]) ([])) s.NoBlock (s.Then 11 (s.Set ([]) ([])) s.NoBlock (s.Then 12 (s.Fall ([]) ([])) s.NoBlock s.End)))) s.NoBlock) (s.Then 13 (s.Pose (record { opened = []; facts = ([]); locals = ((name_s, (Of unary.Vi (Number (pos 3)))) ∷ (name_t, (Of unary.Vi (Number (pos 1)))) ∷ (name_d0, (Of unary.Vi (Number (pos 2)))) ∷ []); items = ((Data (Number (pos 64)) (Global name_g) (Of2 binary.Cons (Of unary.Vi (Number (pos 3))) Nil)) ∷ (Data (Number (pos 64)) (Global name_arr) (Of2 binary.Cons (Of unary.Vi (Number (pos 1))) (Of2 binary.Cons (Of unary.Vi (Number (pos 2))) (Of2 binary.Cons (Of unary.Vi (Number (pos 0))) (Of2 binary.Cons (Of unary.Vi (Number (pos 0))) Nil))))) ∷ (Lock (Number (pos 64)) (Global name_l) (record { name = name_iv; args = ([]) })) ∷ []) }) ([]) ([])) (s.WithBlock (s.Then 14 (s.Meet ([]) ([])) s.NoBlock s.End) s.NoBlock) (s.Then 15 (s.Acquire 2 ([])) s.NoBlock (s.Then 16 (s.Unfold 4 ((name_k1 ∷ []) ∷ [])) (s.WithBlock (s.Then 17 (s.Load 4 ([]) ([])) s.NoBlock (s.Then 18 (s.Fold name_iv 0 ([]) ((Named name_k1) ∷ []) ([])) s.NoBlock (s.Then 19 (s.Release 3 4 ([])) s.NoBlock (s.Then 20 (s.Acquire 2 ([])) s.NoBlock (s.Then 21 (s.Have (Rel relation.Eq (Number (pos 5)) (Number (pos 5))) ([])) s.NoBlock (s.Then 22 (s.FreeLock 2 3 ([]) ([])) s.NoBlock (s.Then 23 (s.Return ([]) ([]) ([])) s.NoBlock s.End))))))) s.NoBlock) s.End))))))))))) ≡ Accepted
unfolding computing
random_936 = refl

random_937 : body_verdict (record { predicates = ((record { name = name_iv; args = ([]); cases = ((record { opened = (sort.Int ∷ []); facts = ((Rel relation.Le (Number (pos 0)) (Var 0 sort.Int)) ∷ (Rel relation.Le (Var 0 sort.Int) (Number (pos 50))) ∷ []); locals = []; items = ((Data (Number (pos 64)) (Global name_x) (Of2 binary.Cons (Of unary.Vi (Var 0 sort.Int)) Nil)) ∷ []) }) ∷ []) }) ∷ []); specs = ((record { is_void = false; name = name_main; params = ([]); vars = []; pre = (record { opened = []; facts = ([]); locals = []; items = ((Data (Number (pos 64)) (Global name_x) (Of2 binary.Cons (Of unary.Vi (Number (pos 3))) Nil)) ∷ (Data (Number (pos 64)) (Global name_g) (Of2 binary.Cons (Of unary.Vi (Number (pos 3))) Nil)) ∷ (Data (Number (pos 64)) (Global name_arr) (Of2 binary.Cons (Of unary.Vi (Number (pos 1))) (Of2 binary.Cons (Of unary.Vi (Number (pos 2))) (Of2 binary.Cons (Of unary.Vi (Number (pos 0))) (Of2 binary.Cons (Of unary.Vi (Number (pos 0))) Nil))))) ∷ (Data (Number (pos 64)) (Global name_l) (Of2 binary.Cons (Of unary.Vi (Number (pos 0))) Nil)) ∷ []) }); post = (record { opened = []; facts = ((Rel relation.Eq (Var 0 sort.Val) (Of unary.Vi (Number (pos 7)))) ∷ []); locals = []; items = ((Data (Number (pos 64)) (Global name_g) (Of2 binary.Cons (Of unary.Vi (Number (pos 3))) Nil)) ∷ (Data (Number (pos 64)) (Global name_arr) (Of2 binary.Cons (Of unary.Vi (Number (pos 1))) (Of2 binary.Cons (Of unary.Vi (Number (pos 2))) (Of2 binary.Cons (Of unary.Vi (Number (pos 0))) (Of2 binary.Cons (Of unary.Vi (Number (pos 0))) Nil))))) ∷ (Pred (record { name = name_iv; args = ([]) })) ∷ (Data (Number (pos 64)) (Global name_l) (Of2 binary.Cons Undef Nil)) ∷ []) }) }) ∷ []) }) (record { is_void = false; name = name_main; params = ([]); vars = []; pre = (record { opened = []; facts = ([]); locals = []; items = ((Data (Number (pos 64)) (Global name_x) (Of2 binary.Cons (Of unary.Vi (Number (pos 3))) Nil)) ∷ (Data (Number (pos 64)) (Global name_g) (Of2 binary.Cons (Of unary.Vi (Number (pos 3))) Nil)) ∷ (Data (Number (pos 64)) (Global name_arr) (Of2 binary.Cons (Of unary.Vi (Number (pos 1))) (Of2 binary.Cons (Of unary.Vi (Number (pos 2))) (Of2 binary.Cons (Of unary.Vi (Number (pos 0))) (Of2 binary.Cons (Of unary.Vi (Number (pos 0))) Nil))))) ∷ (Data (Number (pos 64)) (Global name_l) (Of2 binary.Cons (Of unary.Vi (Number (pos 0))) Nil)) ∷ []) }); post = (record { opened = []; facts = ((Rel relation.Eq (Var 0 sort.Val) (Of unary.Vi (Number (pos 7)))) ∷ []); locals = []; items = ((Data (Number (pos 64)) (Global name_g) (Of2 binary.Cons (Of unary.Vi (Number (pos 3))) Nil)) ∷ (Data (Number (pos 64)) (Global name_arr) (Of2 binary.Cons (Of unary.Vi (Number (pos 1))) (Of2 binary.Cons (Of unary.Vi (Number (pos 2))) (Of2 binary.Cons (Of unary.Vi (Number (pos 0))) (Of2 binary.Cons (Of unary.Vi (Number (pos 0))) Nil))))) ∷ (Pred (record { name = name_iv; args = ([]) })) ∷ (Data (Number (pos 64)) (Global name_l) (Of2 binary.Cons Undef Nil)) ∷ []) }) }) (record { temps = (name_s ∷ name_t ∷ name_i ∷ name_x1 ∷ name_d0 ∷ name_p1 ∷ name_q1 ∷ []); body = (c.Then (c.Set 0 (c.Const 2)) (c.Then (c.OnLock lock.Make (c.Address (root.Global name_l 1) c.Here)) (c.Then (c.OnLock lock.Release (c.Address (root.Global name_l 1) c.Here)) (c.Then (c.Load 0 (root.Global name_arr 4) (c.Index kind.Signed (c.Const 1) c.Here)) (c.Then (c.Load 1 (root.Global name_arr 4) (c.Index kind.Signed (c.Const 0) c.Here)) (c.Then (c.Set 0 (c.Const 1)) (c.Then (c.Set 4 (c.Binary two.Add kind.Signed (c.Const 1) (c.Const 1))) (c.Then (c.Set 4 (c.Const 2)) (c.Then (c.Set 0 (c.Binary two.Add kind.Signed (c.Temp 4) (c.Const 1))) (c.Then (c.OnLock lock.Acquire (c.Address (root.Global name_l 1) c.Here)) (c.Then (c.Load 1 (root.Global name_x 1) c.Here) (c.Then (c.OnLock lock.Release (c.Address (root.Global name_l 1) c.Here)) (c.Then (c.OnLock lock.Acquire (c.Address (root.Global name_l 1) c.Here)) (c.Then (c.OnLock lock.Free (c.Address (root.Global name_l 1) c.Here)) (c.Then (c.Return (Some (c.Const 7))) c.End))))))))))))))) }) (s.Then 1 (s.Set ([]) ([])) s.NoBlock (s.Then 2 (s.MakeLock 3 (record { name = name_iv; args = ([]) }) ([]) ([])) s.NoBlock (s.Then 3 (s.Fold name_iv 0 ([]) ((Number (pos 3)) ∷ []) ([])) s.NoBlock (s.Then 4 (s.Release 3 4 ([])) s.NoBlock (s.Then 5 (s.Load 1 ([]) ([])) s.NoBlock (s.Then 6 (s.Load 1 ([]) ([])) s.NoBlock (s.Then 7 (s.Set ([]) ([])) s.NoBlock (s.Then 8 (s.Block 3 (record { opened = []; facts = ([]); locals = ((name_s, (Of unary.Vi (Number (pos 3)))) ∷ (name_k1, (Of unary.Vi (Number (pos 1)))) ∷ (name_d0, (Of unary.Vi (Number (pos 2)))) ∷ []); items = ((Data (Number (pos 64)) (Global name_g) (Of2 binary.Cons (Of unary.Vi (Number (pos 3))) Nil)) ∷ (Data (Number (pos 64)) (Global name_arr) (Of2 binary.Cons (Of unary.Vi (Number (pos 1))) (Of2 binary.Cons (Of unary.Vi (Number (pos 2))) (Of2 binary.Cons (Of unary.Vi (Number (pos 0))) (Of2 binary.Cons (Of unary.Vi (Number (pos 0))) Nil))))) ∷ (Lock (Number (pos 64)) (Global name_l) (record { name = name_iv; args = ([]) })) ∷ []) }) ([]) ([])) (s.WithBlock (s.Then 9 (s.Set ([]) ([])) s.NoBlock (s.Then 10 (s.Set ([]) ([])) s.NoBlock (s.Then 11 (s.Set ([]) ([])) s.NoBlock (s.Then 12 (s.Fall ([]) ([])) s.NoBlock s.End)))) s.NoBlock) (s.Then 13 (s.Pose (record { opened = []; facts = ([]); locals = ((name_s, (Of unary.Vi (Number (pos 3)))) ∷ (name_t, (Of unary.Vi (Number (pos 1)))) ∷ (name_d0, (Of unary.Vi (Number (pos 2)))) ∷ []); items = ((Data (Number (pos 64)) (Global name_g) (Of2 binary.Cons (Of unary.Vi (Number (pos 3))) Nil)) ∷ (Data (Number (pos 64)) (Global name_arr) (Of2 binary.Cons (Of unary.Vi (Number (pos 1))) (Of2 binary.Cons (Of unary.Vi (Number (pos 2))) (Of2 binary.Cons (Of unary.Vi (Number (pos 0))) (Of2 binary.Cons (Of unary.Vi (Number (pos 0))) Nil))))) ∷ (Lock (Number (pos 64)) (Global name_l) (record { name = name_iv; args = ([]) })) ∷ []) }) ([]) ([])) (s.WithBlock (s.Then 14 (s.Meet ([]) ([])) s.NoBlock s.End) s.NoBlock) (s.Then 15 (s.Acquire 2 ([])) s.NoBlock (s.Then 16 (s.Unfold 4 ((name_k1 ∷ []) ∷ [])) (s.WithBlock (s.Then 17 (s.Load 4 ([]) ([])) s.NoBlock (s.Then 18 (s.Fold name_iv 0 ([]) ((Named name_k1) ∷ []) ([])) s.NoBlock (s.Then 19 (s.Release 3 4 ([])) s.NoBlock (s.Then 20 (s.Acquire 2 ([])) s.NoBlock (s.Then 21 (s.Have (Rel relation.Eq (Number (pos 5)) (Number (pos 5))) ([])) s.NoBlock (s.Then 22 (s.FreeLock 2 3 ([]) ([])) s.NoBlock (s.Then 23 (s.Return ([]) ([]) ([])) s.NoBlock s.End))))))) s.NoBlock) s.End))))))))))) ≡ (RefusedAt 8 11 4)
unfolding computing
random_937 = refl

random_938 : body_verdict (record { predicates = ((record { name = name_iv; args = ([]); cases = ((record { opened = (sort.Int ∷ []); facts = ((Rel relation.Le (Number (pos 0)) (Var 0 sort.Int)) ∷ (Rel relation.Le (Var 0 sort.Int) (Number (pos 50))) ∷ []); locals = []; items = ((Data (Number (pos 64)) (Global name_x) (Of2 binary.Cons (Of unary.Vi (Var 0 sort.Int)) Nil)) ∷ []) }) ∷ []) }) ∷ []); specs = ((record { is_void = false; name = name_main; params = ([]); vars = []; pre = (record { opened = []; facts = ([]); locals = []; items = ((Data (Number (pos 64)) (Global name_x) (Of2 binary.Cons (Of unary.Vi (Number (pos 3))) Nil)) ∷ (Data (Number (pos 64)) (Global name_g) (Of2 binary.Cons (Of unary.Vi (Number (pos 3))) Nil)) ∷ (Data (Number (pos 64)) (Global name_arr) (Of2 binary.Cons (Of unary.Vi (Number (pos 1))) (Of2 binary.Cons (Of unary.Vi (Number (pos 2))) (Of2 binary.Cons (Of unary.Vi (Number (pos 0))) (Of2 binary.Cons (Of unary.Vi (Number (pos 0))) Nil))))) ∷ (Data (Number (pos 64)) (Global name_l) (Of2 binary.Cons (Of unary.Vi (Number (pos 0))) Nil)) ∷ []) }); post = (record { opened = []; facts = ((Rel relation.Eq (Var 0 sort.Val) (Of unary.Vi (Number (pos 7)))) ∷ []); locals = []; items = ((Data (Number (pos 64)) (Global name_g) (Of2 binary.Cons (Of unary.Vi (Number (pos 3))) Nil)) ∷ (Data (Number (pos 64)) (Global name_arr) (Of2 binary.Cons (Of unary.Vi (Number (pos 1))) (Of2 binary.Cons (Of unary.Vi (Number (pos 2))) (Of2 binary.Cons (Of unary.Vi (Number (pos 0))) (Of2 binary.Cons (Of unary.Vi (Number (pos 0))) Nil))))) ∷ (Pred (record { name = name_iv; args = ([]) })) ∷ (Data (Number (pos 64)) (Global name_l) (Of2 binary.Cons Undef Nil)) ∷ []) }) }) ∷ []) }) (record { is_void = false; name = name_main; params = ([]); vars = []; pre = (record { opened = []; facts = ([]); locals = []; items = ((Data (Number (pos 64)) (Global name_x) (Of2 binary.Cons (Of unary.Vi (Number (pos 3))) Nil)) ∷ (Data (Number (pos 64)) (Global name_g) (Of2 binary.Cons (Of unary.Vi (Number (pos 3))) Nil)) ∷ (Data (Number (pos 64)) (Global name_arr) (Of2 binary.Cons (Of unary.Vi (Number (pos 1))) (Of2 binary.Cons (Of unary.Vi (Number (pos 2))) (Of2 binary.Cons (Of unary.Vi (Number (pos 0))) (Of2 binary.Cons (Of unary.Vi (Number (pos 0))) Nil))))) ∷ (Data (Number (pos 64)) (Global name_l) (Of2 binary.Cons (Of unary.Vi (Number (pos 0))) Nil)) ∷ []) }); post = (record { opened = []; facts = ((Rel relation.Eq (Var 0 sort.Val) (Of unary.Vi (Number (pos 7)))) ∷ []); locals = []; items = ((Data (Number (pos 64)) (Global name_g) (Of2 binary.Cons (Of unary.Vi (Number (pos 3))) Nil)) ∷ (Data (Number (pos 64)) (Global name_arr) (Of2 binary.Cons (Of unary.Vi (Number (pos 1))) (Of2 binary.Cons (Of unary.Vi (Number (pos 2))) (Of2 binary.Cons (Of unary.Vi (Number (pos 0))) (Of2 binary.Cons (Of unary.Vi (Number (pos 0))) Nil))))) ∷ (Pred (record { name = name_iv; args = ([]) })) ∷ (Data (Number (pos 64)) (Global name_l) (Of2 binary.Cons Undef Nil)) ∷ []) }) }) (record { temps = (name_s ∷ name_t ∷ name_i ∷ name_x1 ∷ name_d0 ∷ name_p1 ∷ name_q1 ∷ []); body = (c.Then (c.Set 0 (c.Const 2)) (c.Then (c.OnLock lock.Make (c.Address (root.Global name_l 1) c.Here)) (c.Then (c.OnLock lock.Release (c.Address (root.Global name_l 1) c.Here)) (c.Then (c.Load 0 (root.Global name_arr 4) (c.Index kind.Signed (c.Const 1) c.Here)) (c.Then (c.Load 1 (root.Global name_arr 4) (c.Index kind.Signed (c.Const 0) c.Here)) (c.Then (c.Set 0 (c.Const 1)) (c.Then (c.Set 4 (c.Binary two.Add kind.Signed (c.Const 1) (c.Const 1))) (c.Then (c.Set 4 (c.Const 2)) (c.Then (c.Set 0 (c.Binary two.Add kind.Signed (c.Temp 4) (c.Const 1))) (c.Then (c.OnLock lock.Acquire (c.Address (root.Global name_l 1) c.Here)) (c.Then (c.Load 1 (root.Global name_x 1) c.Here) (c.Then (c.OnLock lock.Release (c.Address (root.Global name_l 1) c.Here)) (c.Then (c.OnLock lock.Acquire (c.Address (root.Global name_l 1) c.Here)) (c.Then (c.OnLock lock.Free (c.Address (root.Global name_l 1) c.Here)) (c.Then (c.Return (Some (c.Const 7))) c.End))))))))))))))) }) (s.Then 1 (s.Set ([]) ([])) s.NoBlock (s.Then 2 (s.MakeLock 3 (record { name = name_iv; args = ([]) }) ([]) ([])) s.NoBlock (s.Then 3 (s.Fold name_iv 0 ([]) ((Number (pos 3)) ∷ []) ([])) s.NoBlock (s.Then 4 (s.Release 3 4 ([])) s.NoBlock (s.Then 5 (s.Load 1 ([]) ([])) s.NoBlock (s.Then 6 (s.Load 1 ([]) ([])) s.NoBlock (s.Then 7 (s.Set ([]) ([])) s.NoBlock (s.Then 8 (s.Block 3 (record { opened = []; facts = ([]); locals = ((name_s, (Of unary.Vi (Number (pos 3)))) ∷ (name_t, (Of unary.Vi (Number (pos 1)))) ∷ (name_d0, (Of unary.Vi (Number (pos 2)))) ∷ []); items = ((Data (Number (pos 64)) (Global name_g) (Of2 binary.Cons (Of unary.Vi (Number (pos 3))) Nil)) ∷ (Data (Number (pos 64)) (Global name_arr) (Of2 binary.Cons (Of unary.Vi (Number (pos 1))) (Of2 binary.Cons (Of unary.Vi (Number (pos 2))) (Of2 binary.Cons (Of unary.Vi (Number (pos 0))) (Of2 binary.Cons (Of unary.Vi (Number (pos 0))) Nil))))) ∷ (Lock (Number (pos 64)) (Global name_l) (record { name = name_iv; args = ([]) })) ∷ []) }) ([]) ([])) (s.WithBlock (s.Then 9 (s.Set ([]) ([])) s.NoBlock (s.Then 10 (s.Set ([]) ([])) s.NoBlock (s.Then 11 (s.Set ([]) ([])) s.NoBlock (s.Then 12 (s.Fall ([]) ([])) s.NoBlock s.End)))) s.NoBlock) (s.Then 13 (s.Pose (record { opened = []; facts = ([]); locals = ((name_s, (Of unary.Vi (Number (pos 3)))) ∷ (name_t, (Of unary.Vi (Number (pos 1)))) ∷ (name_d0, (Of unary.Vi (Number (pos 2)))) ∷ []); items = ((Data (Number (pos 2)) (Global name_g) (Of2 binary.Cons (Of unary.Vi (Number (pos 3))) Nil)) ∷ (Data (Number (pos 64)) (Global name_arr) (Of2 binary.Cons (Of unary.Vi (Number (pos 1))) (Of2 binary.Cons (Of unary.Vi (Number (pos 2))) (Of2 binary.Cons (Of unary.Vi (Number (pos 0))) (Of2 binary.Cons (Of unary.Vi (Number (pos 0))) Nil))))) ∷ (Lock (Number (pos 64)) (Global name_l) (record { name = name_iv; args = ([]) })) ∷ []) }) ([]) ([])) (s.WithBlock (s.Then 14 (s.Meet ([]) ([])) s.NoBlock s.End) s.NoBlock) (s.Then 15 (s.Acquire 2 ([])) s.NoBlock (s.Then 16 (s.Unfold 4 ((name_k1 ∷ []) ∷ [])) (s.WithBlock (s.Then 17 (s.Load 4 ([]) ([])) s.NoBlock (s.Then 18 (s.Fold name_iv 0 ([]) ((Named name_k1) ∷ []) ([])) s.NoBlock (s.Then 19 (s.Release 3 4 ([])) s.NoBlock (s.Then 20 (s.Acquire 2 ([])) s.NoBlock (s.Then 21 (s.Have (Rel relation.Eq (Number (pos 5)) (Number (pos 5))) ([])) s.NoBlock (s.Then 22 (s.FreeLock 2 3 ([]) ([])) s.NoBlock (s.Then 23 (s.Return ([]) ([]) ([])) s.NoBlock s.End))))))) s.NoBlock) s.End))))))))))) ≡ (RefusedAt 14 37 5)
unfolding computing
random_938 = refl

random_939 : body_verdict (record { predicates = ((record { name = name_iv; args = ([]); cases = ((record { opened = (sort.Int ∷ []); facts = ((Rel relation.Le (Number (pos 0)) (Var 0 sort.Int)) ∷ (Rel relation.Le (Var 0 sort.Int) (Number (pos 50))) ∷ []); locals = []; items = ((Data (Number (pos 64)) (Global name_x) (Of2 binary.Cons (Of unary.Vi (Var 0 sort.Int)) Nil)) ∷ []) }) ∷ []) }) ∷ []); specs = ((record { is_void = false; name = name_main; params = ([]); vars = []; pre = (record { opened = []; facts = ([]); locals = []; items = ((Data (Number (pos 64)) (Global name_x) (Of2 binary.Cons (Of unary.Vi (Number (pos 3))) Nil)) ∷ (Data (Number (pos 64)) (Global name_g) (Of2 binary.Cons (Of unary.Vi (Number (pos 3))) Nil)) ∷ (Data (Number (pos 64)) (Global name_arr) (Of2 binary.Cons (Of unary.Vi (Number (pos 1))) (Of2 binary.Cons (Of unary.Vi (Number (pos 2))) (Of2 binary.Cons (Of unary.Vi (Number (pos 0))) (Of2 binary.Cons (Of unary.Vi (Number (pos 0))) Nil))))) ∷ (Data (Number (pos 64)) (Global name_arr) (Of2 binary.Cons (Of unary.Vi (Number (pos 0))) Nil)) ∷ []) }); post = (record { opened = []; facts = ((Rel relation.Eq (Var 0 sort.Val) (Of unary.Vi (Number (pos 7)))) ∷ []); locals = []; items = ((Data (Number (pos 64)) (Global name_g) (Of2 binary.Cons (Of unary.Vi (Number (pos 3))) Nil)) ∷ (Data (Number (pos 64)) (Global name_arr) (Of2 binary.Cons (Of unary.Vi (Number (pos 1))) (Of2 binary.Cons (Of unary.Vi (Number (pos 2))) (Of2 binary.Cons (Of unary.Vi (Number (pos 0))) (Of2 binary.Cons (Of unary.Vi (Number (pos 0))) Nil))))) ∷ (Pred (record { name = name_iv; args = ([]) })) ∷ (Data (Number (pos 64)) (Global name_l) (Of2 binary.Cons Undef Nil)) ∷ []) }) }) ∷ []) }) (record { is_void = false; name = name_main; params = ([]); vars = []; pre = (record { opened = []; facts = ([]); locals = []; items = ((Data (Number (pos 64)) (Global name_x) (Of2 binary.Cons (Of unary.Vi (Number (pos 3))) Nil)) ∷ (Data (Number (pos 64)) (Global name_g) (Of2 binary.Cons (Of unary.Vi (Number (pos 3))) Nil)) ∷ (Data (Number (pos 64)) (Global name_arr) (Of2 binary.Cons (Of unary.Vi (Number (pos 1))) (Of2 binary.Cons (Of unary.Vi (Number (pos 2))) (Of2 binary.Cons (Of unary.Vi (Number (pos 0))) (Of2 binary.Cons (Of unary.Vi (Number (pos 0))) Nil))))) ∷ (Data (Number (pos 64)) (Global name_arr) (Of2 binary.Cons (Of unary.Vi (Number (pos 0))) Nil)) ∷ []) }); post = (record { opened = []; facts = ((Rel relation.Eq (Var 0 sort.Val) (Of unary.Vi (Number (pos 7)))) ∷ []); locals = []; items = ((Data (Number (pos 64)) (Global name_g) (Of2 binary.Cons (Of unary.Vi (Number (pos 3))) Nil)) ∷ (Data (Number (pos 64)) (Global name_arr) (Of2 binary.Cons (Of unary.Vi (Number (pos 1))) (Of2 binary.Cons (Of unary.Vi (Number (pos 2))) (Of2 binary.Cons (Of unary.Vi (Number (pos 0))) (Of2 binary.Cons (Of unary.Vi (Number (pos 0))) Nil))))) ∷ (Pred (record { name = name_iv; args = ([]) })) ∷ (Data (Number (pos 64)) (Global name_l) (Of2 binary.Cons Undef Nil)) ∷ []) }) }) (record { temps = (name_s ∷ name_t ∷ name_i ∷ name_x1 ∷ name_d0 ∷ name_p1 ∷ name_q1 ∷ []); body = (c.Then (c.Set 0 (c.Const 2)) (c.Then (c.OnLock lock.Make (c.Address (root.Global name_l 1) c.Here)) (c.Then (c.OnLock lock.Release (c.Address (root.Global name_l 1) c.Here)) (c.Then (c.Load 0 (root.Global name_arr 4) (c.Index kind.Signed (c.Const 1) c.Here)) (c.Then (c.Load 1 (root.Global name_arr 4) (c.Index kind.Signed (c.Const 0) c.Here)) (c.Then (c.Set 0 (c.Const 1)) (c.Then (c.Set 4 (c.Binary two.Add kind.Signed (c.Const 1) (c.Const 1))) (c.Then (c.Set 4 (c.Const 2)) (c.Then (c.Set 0 (c.Binary two.Add kind.Signed (c.Temp 4) (c.Const 1))) (c.Then (c.OnLock lock.Acquire (c.Address (root.Global name_l 1) c.Here)) (c.Then (c.Load 1 (root.Global name_x 1) c.Here) (c.Then (c.OnLock lock.Release (c.Address (root.Global name_l 1) c.Here)) (c.Then (c.OnLock lock.Acquire (c.Address (root.Global name_l 1) c.Here)) (c.Then (c.OnLock lock.Free (c.Address (root.Global name_l 1) c.Here)) (c.Then (c.Return (Some (c.Const 7))) c.End))))))))))))))) }) (s.Then 1 (s.Set ([]) ([])) s.NoBlock (s.Then 2 (s.MakeLock 3 (record { name = name_iv; args = ([]) }) ([]) ([])) s.NoBlock (s.Then 3 (s.Fold name_iv 0 ([]) ((Number (pos 3)) ∷ []) ([])) s.NoBlock (s.Then 4 (s.Release 3 4 ([])) s.NoBlock (s.Then 5 (s.Load 1 ([]) ([])) s.NoBlock (s.Then 6 (s.Load 1 ([]) ([])) s.NoBlock (s.Then 7 (s.Block 3 (record { opened = []; facts = ([]); locals = ((name_s, (Of unary.Vi (Number (pos 3)))) ∷ (name_t, (Of unary.Vi (Number (pos 1)))) ∷ (name_d0, (Of unary.Vi (Number (pos 2)))) ∷ []); items = ((Data (Number (pos 64)) (Global name_g) (Of2 binary.Cons (Of unary.Vi (Number (pos 3))) Nil)) ∷ (Data (Number (pos 64)) (Global name_arr) (Of2 binary.Cons (Of unary.Vi (Number (pos 1))) (Of2 binary.Cons (Of unary.Vi (Number (pos 2))) (Of2 binary.Cons (Of unary.Vi (Number (pos 0))) (Of2 binary.Cons (Of unary.Vi (Number (pos 0))) Nil))))) ∷ (Lock (Number (pos 64)) (Global name_l) (record { name = name_iv; args = ([]) })) ∷ []) }) ([]) ([])) (s.WithBlock (s.Then 8 (s.Set ([]) ([])) s.NoBlock (s.Then 9 (s.Set ([]) ([])) s.NoBlock (s.Then 10 (s.Set ([]) ([])) s.NoBlock (s.Then 11 (s.Set ([]) ([])) s.NoBlock (s.Then 12 (s.Fall ([]) ([])) s.NoBlock s.End))))) s.NoBlock) (s.Then 13 (s.Pose (record { opened = []; facts = ([]); locals = ((name_s, (Of unary.Vi (Number (pos 3)))) ∷ (name_t, (Of unary.Vi (Number (pos 1)))) ∷ (name_d0, (Of unary.Vi (Number (pos 2)))) ∷ []); items = ((Data (Number (pos 64)) (Global name_g) (Of2 binary.Cons (Of unary.Vi (Number (pos 3))) Nil)) ∷ (Data (Number (pos 64)) (Global name_arr) (Of2 binary.Cons (Of unary.Vi (Number (pos 1))) (Of2 binary.Cons (Of unary.Vi (Number (pos 2))) (Of2 binary.Cons (Of unary.Vi (Number (pos 0))) (Of2 binary.Cons (Of unary.Vi (Number (pos 0))) Nil))))) ∷ (Lock (Number (pos 64)) (Global name_l) (record { name = name_iv; args = ([]) })) ∷ []) }) ([]) ([])) (s.WithBlock (s.Then 14 (s.Meet ([]) ([])) s.NoBlock s.End) s.NoBlock) (s.Then 15 (s.Acquire 2 ([])) s.NoBlock (s.Then 16 (s.Unfold 4 ((name_k1 ∷ []) ∷ [])) (s.WithBlock (s.Then 17 (s.Load 4 ([]) ([])) s.NoBlock (s.Then 18 (s.Fold name_iv 0 ([]) ((Named name_k1) ∷ []) ([])) s.NoBlock (s.Then 19 (s.Release 3 4 ([])) s.NoBlock (s.Then 20 (s.Acquire 2 ([])) s.NoBlock (s.Then 21 (s.Have (Rel relation.Eq (Number (pos 5)) (Number (pos 5))) ([])) s.NoBlock (s.Then 22 (s.FreeLock 2 3 ([]) ([])) s.NoBlock (s.Then 23 (s.Return ([]) ([]) ([])) s.NoBlock s.End))))))) s.NoBlock) s.End)))))))))) ≡ (RefusedAt 2 16 1)
unfolding computing
random_939 = refl

random_940 : body_verdict (record { predicates = ((record { name = name_iv; args = ([]); cases = ((record { opened = (sort.Int ∷ []); facts = ((Rel relation.Le (Number (pos 0)) (Var 0 sort.Int)) ∷ (Rel relation.Le (Var 0 sort.Int) (Number (pos 50))) ∷ []); locals = []; items = ((Data (Number (pos 64)) (Global name_x) (Of2 binary.Cons (Of unary.Vi (Var 0 sort.Int)) Nil)) ∷ []) }) ∷ []) }) ∷ []); specs = ((record { is_void = false; name = name_main; params = ([]); vars = []; pre = (record { opened = []; facts = ([]); locals = []; items = ((Data (Number (pos 64)) (Global name_x) (Of2 binary.Cons (Of unary.Vi (Number (pos 3))) Nil)) ∷ (Data (Number (pos 64)) (Global name_g) (Of2 binary.Cons (Of unary.Vi (Number (pos 3))) Nil)) ∷ (Data (Number (pos 64)) (Global name_arr) (Of2 binary.Cons (Of unary.Vi (Number (pos 1))) (Of2 binary.Cons (Of unary.Vi (Number (pos 2))) (Of2 binary.Cons (Of unary.Vi (Number (pos 0))) (Of2 binary.Cons (Of unary.Vi (Number (pos 0))) Nil))))) ∷ (Data (Number (pos 64)) (Global name_l) (Of2 binary.Cons (Of unary.Vi (Number (pos 0))) Nil)) ∷ []) }); post = (record { opened = []; facts = ((Rel relation.Eq (Var 0 sort.Val) (Of unary.Vi (Number (pos 7)))) ∷ []); locals = []; items = ((Data (Number (pos 64)) (Global name_g) (Of2 binary.Cons (Of unary.Vi (Number (pos 3))) Nil)) ∷ (Data (Number (pos 64)) (Global name_arr) (Of2 binary.Cons (Of unary.Vi (Number (pos 1))) (Of2 binary.Cons (Of unary.Vi (Number (pos 2))) (Of2 binary.Cons (Of unary.Vi (Number (pos 0))) (Of2 binary.Cons (Of unary.Vi (Number (pos 0))) Nil))))) ∷ (Pred (record { name = name_iv; args = ([]) })) ∷ (Data (Number (pos 64)) (Global name_l) (Of2 binary.Cons Undef Nil)) ∷ []) }) }) ∷ []) }) (record { is_void = false; name = name_main; params = ([]); vars = []; pre = (record { opened = []; facts = ([]); locals = []; items = ((Data (Number (pos 64)) (Global name_x) (Of2 binary.Cons (Of unary.Vi (Number (pos 3))) Nil)) ∷ (Data (Number (pos 64)) (Global name_g) (Of2 binary.Cons (Of unary.Vi (Number (pos 3))) Nil)) ∷ (Data (Number (pos 64)) (Global name_arr) (Of2 binary.Cons (Of unary.Vi (Number (pos 1))) (Of2 binary.Cons (Of unary.Vi (Number (pos 2))) (Of2 binary.Cons (Of unary.Vi (Number (pos 0))) (Of2 binary.Cons (Of unary.Vi (Number (pos 0))) Nil))))) ∷ (Data (Number (pos 64)) (Global name_l) (Of2 binary.Cons (Of unary.Vi (Number (pos 0))) Nil)) ∷ []) }); post = (record { opened = []; facts = ((Rel relation.Eq (Var 0 sort.Val) (Of unary.Vi (Number (pos 7)))) ∷ []); locals = []; items = ((Data (Number (pos 64)) (Global name_g) (Of2 binary.Cons (Of unary.Vi (Number (pos 3))) Nil)) ∷ (Data (Number (pos 64)) (Global name_arr) (Of2 binary.Cons (Of unary.Vi (Number (pos 1))) (Of2 binary.Cons (Of unary.Vi (Number (pos 2))) (Of2 binary.Cons (Of unary.Vi (Number (pos 0))) (Of2 binary.Cons (Of unary.Vi (Number (pos 0))) Nil))))) ∷ (Pred (record { name = name_iv; args = ([]) })) ∷ (Data (Number (pos 64)) (Global name_l) (Of2 binary.Cons Undef Nil)) ∷ []) }) }) (record { temps = (name_s ∷ name_t ∷ name_i ∷ name_x1 ∷ name_d0 ∷ name_p1 ∷ name_q1 ∷ []); body = (c.Then (c.Set 0 (c.Const 2)) (c.Then (c.OnLock lock.Make (c.Address (root.Global name_l 1) c.Here)) (c.Then (c.OnLock lock.Release (c.Address (root.Global name_l 1) c.Here)) (c.Then (c.Load 0 (root.Global name_arr 4) (c.Index kind.Signed (c.Const 1) c.Here)) (c.Then (c.Load 1 (root.Global name_arr 4) (c.Index kind.Signed (c.Const 0) c.Here)) (c.Then (c.Set 0 (c.Const 1)) (c.Then (c.Set 4 (c.Binary two.Add kind.Signed (c.Const 1) (c.Const 1))) (c.Then (c.Set 4 (c.Const 2)) (c.Then (c.Set 0 (c.Binary two.Add kind.Signed (c.Temp 4) (c.Const 1))) (c.Then (c.OnLock lock.Acquire (c.Address (root.Global name_l 1) c.Here)) (c.Then (c.Load 1 (root.Global name_x 1) c.Here) (c.Then (c.OnLock lock.Release (c.Address (root.Global name_l 1) c.Here)) (c.Then (c.OnLock lock.Acquire (c.Address (root.Global name_l 1) c.Here)) (c.Then (c.OnLock lock.Free (c.Address (root.Global name_l 1) c.Here)) (c.Then (c.Return (Some (c.Const 7))) c.End))))))))))))))) }) (s.Then 1 (s.Set ([]) ([])) s.NoBlock (s.Then 2 (s.MakeLock 3 (record { name = name_iv; args = ([]) }) ([]) ([])) s.NoBlock (s.Then 3 (s.Fold name_iv 0 ([]) ((Number (pos 3)) ∷ []) ([])) s.NoBlock (s.Then 4 (s.Release 3 4 ([])) s.NoBlock (s.Then 5 (s.Load 1 ([]) ([])) s.NoBlock (s.Then 6 (s.Load 1 ([]) ([])) s.NoBlock (s.Then 7 (s.Set ([]) ([])) s.NoBlock (s.Then 8 (s.Block 3 (record { opened = []; facts = ([]); locals = ((name_s, (Of unary.Vi (Number (pos 3)))) ∷ (name_t, (Of unary.Vi (Number (pos 1)))) ∷ (name_d0, (Of unary.Vi (Number (pos 2)))) ∷ []); items = ((Data (Number (pos 64)) (Global name_g) (Of2 binary.Cons (Of unary.Vi (Number (pos 3))) Nil)) ∷ (Data (Number (pos 64)) (Global name_arr) (Of2 binary.Cons (Of unary.Vi (Number (pos 1))) (Of2 binary.Cons (Of unary.Vi (Number (pos 2))) (Of2 binary.Cons (Of unary.Vi (Number (pos 0))) (Of2 binary.Cons (Of unary.Vi (Number (pos 0))) Nil))))) ∷ (Lock (Number (pos 64)) (Global name_l) (record { name = name_iv; args = ([]) })) ∷ []) }) ([]) ([])) (s.WithBlock (s.Then 9 (s.Set ([]) ([])) s.NoBlock (s.Then 10 (s.Set ([]) ([])) s.NoBlock (s.Then 11 (s.Set ([]) ([])) s.NoBlock (s.Then 12 (s.Fall ([]) ([])) s.NoBlock s.End)))) s.NoBlock) (s.Then 13 (s.Pose (record { opened = []; facts = ([]); locals = ((name_s, (Of unary.Vi (Number (pos 3)))) ∷ (name_t, (Of unary.Vi (Number (pos 1)))) ∷ (name_d0, (Of unary.Vi (Number (pos 2)))) ∷ []); items = ((Data (Number (pos 64)) (Global name_g) (Of2 binary.Cons (Of unary.Vi (Number (pos 3))) Nil)) ∷ (Data (Number (pos 64)) (Global name_arr) (Of2 binary.Cons (Of unary.Vi (Number (pos 1))) (Of2 binary.Cons (Of unary.Vi (Number (pos 2))) (Of2 binary.Cons (Of unary.Vi (Number (pos 0))) (Of2 binary.Cons (Of unary.Vi (Number (pos 0))) Nil))))) ∷ (Lock (Number (pos 64)) (Global name_l) (record { name = name_iv; args = ([]) })) ∷ []) }) ([]) ([])) (s.WithBlock s.End s.NoBlock) (s.Then 14 (s.Acquire 2 ([])) s.NoBlock (s.Then 15 (s.Unfold 4 ((name_k1 ∷ []) ∷ [])) (s.WithBlock (s.Then 16 (s.Load 4 ([]) ([])) s.NoBlock (s.Then 17 (s.Fold name_iv 0 ([]) ((Named name_k1) ∷ []) ([])) s.NoBlock (s.Then 18 (s.Release 3 4 ([])) s.NoBlock (s.Then 19 (s.Acquire 2 ([])) s.NoBlock (s.Then 20 (s.Have (Rel relation.Eq (Number (pos 5)) (Number (pos 5))) ([])) s.NoBlock (s.Then 21 (s.FreeLock 2 3 ([]) ([])) s.NoBlock (s.Then 22 (s.Return ([]) ([]) ([])) s.NoBlock s.End))))))) s.NoBlock) s.End))))))))))) ≡ (RefusedAt 14 0 10)
unfolding computing
random_940 = refl

random_941 : body_verdict (record { predicates = ((record { name = name_iv; args = ([]); cases = ((record { opened = (sort.Int ∷ []); facts = ((Rel relation.Le (Number (pos 0)) (Var 0 sort.Int)) ∷ (Rel relation.Le (Var 0 sort.Int) (Number (pos 50))) ∷ []); locals = []; items = ((Data (Number (pos 64)) (Global name_x) (Of2 binary.Cons (Of unary.Vi (Var 0 sort.Int)) Nil)) ∷ []) }) ∷ []) }) ∷ []); specs = ((record { is_void = false; name = name_main; params = ([]); vars = []; pre = (record { opened = []; facts = ([]); locals = []; items = ((Data (Number (pos 64)) (Global name_x) (Of2 binary.Cons (Of unary.Vi (Number (pos 3))) Nil)) ∷ (Data (Number (pos 64)) (Global name_g) (Of2 binary.Cons (Of unary.Vi (Number (pos 3))) Nil)) ∷ (Data (Number (pos 64)) (Global name_arr) (Of2 binary.Cons (Of unary.Vi (Number (pos 1))) (Of2 binary.Cons (Of unary.Vi (Number (pos 2))) (Of2 binary.Cons (Of unary.Vi (Number (pos 0))) (Of2 binary.Cons (Of unary.Vi (Number (pos 0))) Nil))))) ∷ (Data (Number (pos 64)) (Global name_l) (Of2 binary.Cons (Of unary.Vi (Number (pos 0))) Nil)) ∷ []) }); post = (record { opened = []; facts = ((Rel relation.Eq (Var 0 sort.Val) (Of unary.Vi (Number (pos 7)))) ∷ []); locals = []; items = ((Data (Number (pos 64)) (Global name_g) (Of2 binary.Cons (Of unary.Vi (Number (pos 3))) Nil)) ∷ (Data (Number (pos 64)) (Global name_arr) (Of2 binary.Cons (Of unary.Vi (Number (pos 1))) (Of2 binary.Cons (Of unary.Vi (Number (pos 2))) (Of2 binary.Cons (Of unary.Vi (Number (pos 0))) (Of2 binary.Cons (Of unary.Vi (Number (pos 0))) Nil))))) ∷ (Pred (record { name = name_iv; args = ([]) })) ∷ (Data (Number (pos 64)) (Global name_l) (Of2 binary.Cons Undef Nil)) ∷ []) }) }) ∷ []) }) (record { is_void = false; name = name_main; params = ([]); vars = []; pre = (record { opened = []; facts = ([]); locals = []; items = ((Data (Number (pos 64)) (Global name_x) (Of2 binary.Cons (Of unary.Vi (Number (pos 3))) Nil)) ∷ (Data (Number (pos 64)) (Global name_g) (Of2 binary.Cons (Of unary.Vi (Number (pos 3))) Nil)) ∷ (Data (Number (pos 64)) (Global name_arr) (Of2 binary.Cons (Of unary.Vi (Number (pos 1))) (Of2 binary.Cons (Of unary.Vi (Number (pos 2))) (Of2 binary.Cons (Of unary.Vi (Number (pos 0))) (Of2 binary.Cons (Of unary.Vi (Number (pos 0))) Nil))))) ∷ (Data (Number (pos 64)) (Global name_l) (Of2 binary.Cons (Of unary.Vi (Number (pos 0))) Nil)) ∷ []) }); post = (record { opened = []; facts = ((Rel relation.Eq (Var 0 sort.Val) (Of unary.Vi (Number (pos 7)))) ∷ []); locals = []; items = ((Data (Number (pos 64)) (Global name_g) (Of2 binary.Cons (Of unary.Vi (Number (pos 3))) Nil)) ∷ (Data (Number (pos 64)) (Global name_arr) (Of2 binary.Cons (Of unary.Vi (Number (pos 1))) (Of2 binary.Cons (Of unary.Vi (Number (pos 2))) (Of2 binary.Cons (Of unary.Vi (Number (pos 0))) (Of2 binary.Cons (Of unary.Vi (Number (pos 0))) Nil))))) ∷ (Pred (record { name = name_iv; args = ([]) })) ∷ (Data (Number (pos 64)) (Global name_l) (Of2 binary.Cons Undef Nil)) ∷ []) }) }) (record { temps = (name_s ∷ name_t ∷ name_i ∷ name_x1 ∷ name_d0 ∷ name_p1 ∷ name_q1 ∷ []); body = (c.Then (c.Set 0 (c.Const 2)) (c.Then (c.OnLock lock.Make (c.Address (root.Global name_l 1) c.Here)) (c.Then (c.OnLock lock.Release (c.Address (root.Global name_l 1) c.Here)) (c.Then (c.Load 0 (root.Global name_arr 4) (c.Index kind.Signed (c.Const 1) c.Here)) (c.Then (c.Load 1 (root.Global name_arr 4) (c.Index kind.Signed (c.Const 0) c.Here)) (c.Then (c.Set 0 (c.Const 1)) (c.Then (c.Set 4 (c.Binary two.Add kind.Signed (c.Const 1) (c.Const 1))) (c.Then (c.Set 4 (c.Const 2)) (c.Then (c.Set 0 (c.Binary two.Add kind.Signed (c.Temp 4) (c.Const 1))) (c.Then (c.OnLock lock.Acquire (c.Address (root.Global name_l 1) c.Here)) (c.Then (c.Load 1 (root.Global name_x 1) c.Here) (c.Then (c.OnLock lock.Release (c.Address (root.Global name_l 1) c.Here)) (c.Then (c.OnLock lock.Acquire (c.Address (root.Global name_l 1) c.Here)) (c.Then (c.OnLock lock.Free (c.Address (root.Global name_l 1) c.Here)) (c.Then (c.Return (Some (c.Const 7))) c.End))))))))))))))) }) (s.Then 1 (s.Set ([]) ([])) s.NoBlock (s.Then 2 (s.MakeLock 3 (record { name = name_iv; args = ([]) }) ([]) ([])) s.NoBlock (s.Then 3 (s.Fold name_iv 0 ([]) ((Number (pos 3)) ∷ []) ([])) s.NoBlock (s.Then 4 (s.Release 3 4 ([])) s.NoBlock (s.Then 5 (s.Load 1 ([]) ([])) s.NoBlock (s.Then 6 (s.Load 1 ([]) ([])) s.NoBlock (s.Then 7 (s.Set ([]) ([])) s.NoBlock (s.Then 8 (s.Block 3 (record { opened = []; facts = ([]); locals = ((name_s, (Of unary.Vi (Number (pos 3)))) ∷ (name_t, (Of unary.Vi (Number (pos 1)))) ∷ (name_d0, (Of unary.Vi (Number (pos 2)))) ∷ []); items = ((Data (Number (pos 64)) (Global name_g) (Of2 binary.Cons (Of unary.Vi (Number (pos 3))) Nil)) ∷ (Data (Number (pos 64)) (Global name_arr) (Of2 binary.Cons (Of unary.Vi (Number (pos 1))) (Of2 binary.Cons (Of unary.Vi (Number (pos 2))) (Of2 binary.Cons (Of unary.Vi (Number (pos 0))) (Of2 binary.Cons (Of unary.Vi (Number (pos 0))) Nil))))) ∷ (Lock (Number (pos 64)) (Global name_l) (record { name = name_iv; args = ([]) })) ∷ []) }) ([]) ([])) (s.WithBlock (s.Then 9 (s.Set ([]) ([])) s.NoBlock (s.Then 10 (s.Set ([]) ([])) s.NoBlock (s.Then 11 (s.Set ([]) ([])) s.NoBlock (s.Then 12 (s.Set ([]) ([])) s.NoBlock (s.Then 13 (s.Fall ([]) ([])) s.NoBlock s.End))))) s.NoBlock) (s.Then 14 (s.Pose (record { opened = []; facts = ([]); locals = ((name_s, (Of unary.Vi (Number (pos 3)))) ∷ (name_t, (Of unary.Vi (Number (pos 1)))) ∷ (name_d0, (Of unary.Vi (Number (pos 2)))) ∷ []); items = ((Data (Number (pos 64)) (Global name_g) (Of2 binary.Cons (Of unary.Vi (Number (pos 3))) Nil)) ∷ (Data (Number (pos 64)) (Global name_arr) (Of2 binary.Cons (Of unary.Vi (Number (pos 1))) (Of2 binary.Cons (Of unary.Vi (Number (pos 2))) (Of2 binary.Cons (Of unary.Vi (Number (pos 0))) (Of2 binary.Cons (Of unary.Vi (Number (pos 0))) Nil))))) ∷ (Lock (Number (pos 64)) (Global name_l) (record { name = name_iv; args = ([]) })) ∷ []) }) ([]) ([])) (s.WithBlock (s.Then 15 (s.Meet ([]) ([])) s.NoBlock s.End) s.NoBlock) (s.Then 16 (s.Acquire 2 ([])) s.NoBlock (s.Then 17 (s.Unfold 4 ((name_k1 ∷ []) ∷ [])) (s.WithBlock (s.Then 18 (s.Load 4 ([]) ([])) s.NoBlock (s.Then 19 (s.Fold name_iv 0 ([]) ((Named name_k1) ∷ []) ([])) s.NoBlock (s.Then 20 (s.Release 3 4 ([])) s.NoBlock (s.Then 21 (s.Acquire 2 ([])) s.NoBlock (s.Then 22 (s.Have (Rel relation.Eq (Number (pos 5)) (Number (pos 5))) ([])) s.NoBlock (s.Then 23 (s.FreeLock 2 3 ([]) ([])) s.NoBlock (s.Then 24 (s.Return ([]) ([]) ([])) s.NoBlock s.End))))))) s.NoBlock) s.End))))))))))) ≡ (RefusedAt 12 2 1)
unfolding computing
random_941 = refl

random_942 : body_verdict (record { predicates = ((record { name = name_iv; args = ([]); cases = ((record { opened = (sort.Int ∷ []); facts = ((Rel relation.Le (Number (pos 0)) (Var 0 sort.Int)) ∷ (Rel relation.Le (Var 0 sort.Int) (Number (pos 50))) ∷ []); locals = []; items = ((Data (Number (pos 64)) (Global name_x) (Of2 binary.Cons (Of unary.Vi (Var 0 sort.Int)) Nil)) ∷ []) }) ∷ []) }) ∷ []); specs = ((record { is_void = false; name = name_main; params = ([]); vars = []; pre = (record { opened = []; facts = ([]); locals = []; items = ((Data (Number (pos 64)) (Global name_x) (Of2 binary.Cons (Of unary.Vi (Number (pos 3))) Nil)) ∷ (Data (Number (pos 64)) (Global name_g) (Of2 binary.Cons (Of unary.Vi (Number (pos 3))) Nil)) ∷ (Data (Number (pos 64)) (Global name_arr) (Of2 binary.Cons (Of unary.Vi (Number (pos 1))) (Of2 binary.Cons (Of unary.Vi (Number (pos 2))) (Of2 binary.Cons (Of unary.Vi (Number (pos 0))) (Of2 binary.Cons (Of unary.Vi (Number (pos 0))) Nil))))) ∷ (Data (Number (pos 64)) (Global name_l) (Of2 binary.Cons (Of unary.Vi (Number (pos 0))) Nil)) ∷ []) }); post = (record { opened = []; facts = ((Rel relation.Eq (Var 0 sort.Val) (Of unary.Vi (Number (pos 7)))) ∷ []); locals = []; items = ((Data (Number (pos 64)) (Global name_g) (Of2 binary.Cons (Of unary.Vi (Number (pos 3))) Nil)) ∷ (Data (Number (pos 64)) (Global name_arr) (Of2 binary.Cons (Of unary.Vi (Number (pos 1))) (Of2 binary.Cons (Of unary.Vi (Number (pos 2))) (Of2 binary.Cons (Of unary.Vi (Number (pos 0))) (Of2 binary.Cons (Of unary.Vi (Number (pos 0))) Nil))))) ∷ (Pred (record { name = name_iv; args = ([]) })) ∷ (Data (Number (pos 64)) (Global name_l) (Of2 binary.Cons Undef Nil)) ∷ []) }) }) ∷ []) }) (record { is_void = false; name = name_main; params = ([]); vars = []; pre = (record { opened = []; facts = ([]); locals = []; items = ((Data (Number (pos 64)) (Global name_x) (Of2 binary.Cons (Of unary.Vi (Number (pos 3))) Nil)) ∷ (Data (Number (pos 64)) (Global name_g) (Of2 binary.Cons (Of unary.Vi (Number (pos 3))) Nil)) ∷ (Data (Number (pos 64)) (Global name_arr) (Of2 binary.Cons (Of unary.Vi (Number (pos 1))) (Of2 binary.Cons (Of unary.Vi (Number (pos 2))) (Of2 binary.Cons (Of unary.Vi (Number (pos 0))) (Of2 binary.Cons (Of unary.Vi (Number (pos 0))) Nil))))) ∷ (Data (Number (pos 64)) (Global name_l) (Of2 binary.Cons (Of unary.Vi (Number (pos 0))) Nil)) ∷ []) }); post = (record { opened = []; facts = ((Rel relation.Eq (Var 0 sort.Val) (Of unary.Vi (Number (pos 7)))) ∷ []); locals = []; items = ((Data (Number (pos 64)) (Global name_g) (Of2 binary.Cons (Of unary.Vi (Number (pos 3))) Nil)) ∷ (Data (Number (pos 64)) (Global name_arr) (Of2 binary.Cons (Of unary.Vi (Number (pos 1))) (Of2 binary.Cons (Of unary.Vi (Number (pos 2))) (Of2 binary.Cons (Of unary.Vi (Number (pos 0))) (Of2 binary.Cons (Of unary.Vi (Number (pos 0))) Nil))))) ∷ (Pred (record { name = name_iv; args = ([]) })) ∷ (Data (Number (pos 64)) (Global name_l) (Of2 binary.Cons Undef Nil)) ∷ []) }) }) (record { temps = (name_s ∷ name_t ∷ name_i ∷ name_x1 ∷ name_d0 ∷ name_p1 ∷ name_q1 ∷ []); body = (c.Then (c.Set 0 (c.Const 2)) (c.Then (c.OnLock lock.Make (c.Address (root.Global name_l 1) c.Here)) (c.Then (c.OnLock lock.Release (c.Address (root.Global name_l 1) c.Here)) (c.Then (c.Load 0 (root.Global name_arr 4) (c.Index kind.Signed (c.Const 1) c.Here)) (c.Then (c.Load 1 (root.Global name_arr 4) (c.Index kind.Signed (c.Const 0) c.Here)) (c.Then (c.Set 0 (c.Const 2147483647)) (c.Then (c.Set 4 (c.Binary two.Add kind.Signed (c.Const 1) (c.Const 1))) (c.Then (c.Set 4 (c.Const 2)) (c.Then (c.Set 0 (c.Binary two.Add kind.Signed (c.Temp 4) (c.Const 1))) (c.Then (c.OnLock lock.Acquire (c.Address (root.Global name_l 1) c.Here)) (c.Then (c.Load 1 (root.Global name_x 1) c.Here) (c.Then (c.OnLock lock.Release (c.Address (root.Global name_l 1) c.Here)) (c.Then (c.OnLock lock.Acquire (c.Address (root.Global name_l 1) c.Here)) (c.Then (c.OnLock lock.Free (c.Address (root.Global name_l 1) c.Here)) (c.Then (c.Return (Some (c.Const 7))) c.End))))))))))))))) }) (s.Then 1 (s.Set ([]) ([])) s.NoBlock (s.Then 2 (s.MakeLock 3 (record { name = name_iv; args = ([]) }) ([]) ([])) s.NoBlock (s.Then 3 (s.Fold name_iv 0 ([]) ((Number (pos 3)) ∷ []) ([])) s.NoBlock (s.Then 4 (s.Release 3 4 ([])) s.NoBlock (s.Then 5 (s.Load 1 ([]) ([])) s.NoBlock (s.Then 6 (s.Load 1 ([]) ([])) s.NoBlock (s.Then 7 (s.Set ([]) ([])) s.NoBlock (s.Then 8 (s.Block 3 (record { opened = []; facts = ([]); locals = ((name_s, (Of unary.Vi (Number (pos 3)))) ∷ (name_t, (Of unary.Vi (Number (pos 1)))) ∷ (name_d0, (Of unary.Vi (Number (pos 2)))) ∷ []); items = ((Data (Number (pos 64)) (Global name_g) (Of2 binary.Cons (Of unary.Vi (Number (pos 3))) Nil)) ∷ (Data (Number (pos 64)) (Global name_arr) (Of2 binary.Cons (Of unary.Vi (Number (pos 1))) (Of2 binary.Cons (Of unary.Vi (Number (pos 2))) (Of2 binary.Cons (Of unary.Vi (Number (pos 0))) (Of2 binary.Cons (Of unary.Vi (Number (pos 0))) Nil))))) ∷ (Lock (Number (pos 64)) (Global name_l) (record { name = name_iv; args = ([]) })) ∷ []) }) ([]) ([])) (s.WithBlock (s.Then 9 (s.Set ([]) ([])) s.NoBlock (s.Then 10 (s.Set ([]) ([])) s.NoBlock (s.Then 11 (s.Set ([]) ([])) s.NoBlock (s.Then 12 (s.Fall ([]) ([])) s.NoBlock s.End)))) s.NoBlock) (s.Then 13 (s.Pose (record { opened = []; facts = ([]); locals = ((name_s, (Of unary.Vi (Number (pos 3)))) ∷ (name_t, (Of unary.Vi (Number (pos 1)))) ∷ (name_d0, (Of unary.Vi (Number (pos 2)))) ∷ []); items = ((Data (Number (pos 64)) (Global name_g) (Of2 binary.Cons (Of unary.Vi (Number (pos 3))) Nil)) ∷ (Data (Number (pos 64)) (Global name_arr) (Of2 binary.Cons (Of unary.Vi (Number (pos 1))) (Of2 binary.Cons (Of unary.Vi (Number (pos 2))) (Of2 binary.Cons (Of unary.Vi (Number (pos 0))) (Of2 binary.Cons (Of unary.Vi (Number (pos 0))) Nil))))) ∷ (Lock (Number (pos 64)) (Global name_l) (record { name = name_iv; args = ([]) })) ∷ []) }) ([]) ([])) (s.WithBlock (s.Then 14 (s.Meet ([]) ([])) s.NoBlock s.End) s.NoBlock) (s.Then 15 (s.Acquire 2 ([])) s.NoBlock (s.Then 16 (s.Unfold 4 ((name_k1 ∷ []) ∷ [])) (s.WithBlock (s.Then 17 (s.Load 4 ([]) ([])) s.NoBlock (s.Then 18 (s.Fold name_iv 0 ([]) ((Named name_k1) ∷ []) ([])) s.NoBlock (s.Then 19 (s.Release 3 4 ([])) s.NoBlock (s.Then 20 (s.Acquire 2 ([])) s.NoBlock (s.Then 21 (s.Have (Rel relation.Eq (Number (pos 5)) (Number (pos 5))) ([])) s.NoBlock (s.Then 22 (s.FreeLock 2 3 ([]) ([])) s.NoBlock (s.Then 23 (s.Return ([]) ([]) ([])) s.NoBlock s.End))))))) s.NoBlock) s.End))))))))))) ≡ Accepted
unfolding computing
random_942 = refl

random_943 : body_verdict (record { predicates = ((record { name = name_iv; args = ([]); cases = ((record { opened = (sort.Int ∷ []); facts = ((Rel relation.Le (Number (pos 0)) (Var 0 sort.Int)) ∷ (Rel relation.Le (Var 0 sort.Int) (Number (pos 50))) ∷ []); locals = []; items = ((Data (Number (pos 64)) (Global name_x) (Of2 binary.Cons (Of unary.Vi (Var 0 sort.Int)) Nil)) ∷ []) }) ∷ []) }) ∷ []); specs = ((record { is_void = false; name = name_main; params = ([]); vars = []; pre = (record { opened = []; facts = ([]); locals = []; items = ((Data (Number (pos 64)) (Global name_x) (Of2 binary.Cons (Of unary.Vi (Number (pos 3))) Nil)) ∷ (Data (Number (pos 64)) (Global name_g) (Of2 binary.Cons (Of unary.Vi (Number (pos 3))) Nil)) ∷ (Data (Number (pos 64)) (Global name_arr) (Of2 binary.Cons (Of unary.Vi (Number (pos 1))) (Of2 binary.Cons (Of unary.Vi (Number (pos 2))) (Of2 binary.Cons (Of unary.Vi (Number (pos 0))) (Of2 binary.Cons (Of unary.Vi (Number (pos 0))) Nil))))) ∷ (Data (Number (pos 64)) (Global name_l) (Of2 binary.Cons (Of unary.Vi (Number (pos 0))) Nil)) ∷ []) }); post = (record { opened = []; facts = ((Rel relation.Eq (Var 0 sort.Val) (Of unary.Vi (Number (pos 7)))) ∷ []); locals = []; items = ((Data (Number (pos 64)) (Global name_g) (Of2 binary.Cons (Of unary.Vi (Number (pos 3))) Nil)) ∷ (Data (Number (pos 64)) (Global name_arr) (Of2 binary.Cons (Of unary.Vi (Number (pos 1))) (Of2 binary.Cons (Of unary.Vi (Number (pos 2))) (Of2 binary.Cons (Of unary.Vi (Number (pos 0))) (Of2 binary.Cons (Of unary.Vi (Number (pos 0))) Nil))))) ∷ (Pred (record { name = name_iv; args = ([]) })) ∷ (Data (Number (pos 64)) (Global name_l) (Of2 binary.Cons Undef Nil)) ∷ []) }) }) ∷ []) }) (record { is_void = false; name = name_main; params = ([]); vars = []; pre = (record { opened = []; facts = ([]); locals = []; items = ((Data (Number (pos 64)) (Global name_x) (Of2 binary.Cons (Of unary.Vi (Number (pos 3))) Nil)) ∷ (Data (Number (pos 64)) (Global name_g) (Of2 binary.Cons (Of unary.Vi (Number (pos 3))) Nil)) ∷ (Data (Number (pos 64)) (Global name_arr) (Of2 binary.Cons (Of unary.Vi (Number (pos 1))) (Of2 binary.Cons (Of unary.Vi (Number (pos 2))) (Of2 binary.Cons (Of unary.Vi (Number (pos 0))) (Of2 binary.Cons (Of unary.Vi (Number (pos 0))) Nil))))) ∷ (Data (Number (pos 64)) (Global name_l) (Of2 binary.Cons (Of unary.Vi (Number (pos 0))) Nil)) ∷ []) }); post = (record { opened = []; facts = ((Rel relation.Eq (Var 0 sort.Val) (Of unary.Vi (Number (pos 7)))) ∷ []); locals = []; items = ((Data (Number (pos 64)) (Global name_g) (Of2 binary.Cons (Of unary.Vi (Number (pos 3))) Nil)) ∷ (Data (Number (pos 64)) (Global name_arr) (Of2 binary.Cons (Of unary.Vi (Number (pos 1))) (Of2 binary.Cons (Of unary.Vi (Number (pos 2))) (Of2 binary.Cons (Of unary.Vi (Number (pos 0))) (Of2 binary.Cons (Of unary.Vi (Number (pos 0))) Nil))))) ∷ (Pred (record { name = name_iv; args = ([]) })) ∷ (Data (Number (pos 64)) (Global name_l) (Of2 binary.Cons Undef Nil)) ∷ []) }) }) (record { temps = (name_s ∷ name_t ∷ name_i ∷ name_x1 ∷ name_d0 ∷ name_p1 ∷ name_q1 ∷ []); body = (c.Then (c.Set 0 (c.Const 2)) (c.Then (c.OnLock lock.Make (c.Address (root.Global name_l 1) c.Here)) (c.Then (c.OnLock lock.Release (c.Address (root.Global name_l 1) c.Here)) (c.Then (c.Load 0 (root.Global name_arr 4) (c.Index kind.Signed (c.Const 1) c.Here)) (c.Then (c.Load 1 (root.Global name_arr 4) (c.Index kind.Signed (c.Const 4) c.Here)) (c.Then (c.Set 0 (c.Const 1)) (c.Then (c.Set 4 (c.Binary two.Add kind.Signed (c.Const 1) (c.Const 1))) (c.Then (c.Set 4 (c.Const 2)) (c.Then (c.Set 0 (c.Binary two.Add kind.Signed (c.Temp 4) (c.Const 1))) (c.Then (c.OnLock lock.Acquire (c.Address (root.Global name_l 1) c.Here)) (c.Then (c.Load 1 (root.Global name_x 1) c.Here) (c.Then (c.OnLock lock.Release (c.Address (root.Global name_l 1) c.Here)) (c.Then (c.OnLock lock.Acquire (c.Address (root.Global name_l 1) c.Here)) (c.Then (c.OnLock lock.Free (c.Address (root.Global name_l 1) c.Here)) (c.Then (c.Return (Some (c.Const 7))) c.End))))))))))))))) }) (s.Then 1 (s.Set ([]) ([])) s.NoBlock (s.Then 2 (s.MakeLock 3 (record { name = name_iv; args = ([]) }) ([]) ([])) s.NoBlock (s.Then 3 (s.Fold name_iv 0 ([]) ((Number (pos 3)) ∷ []) ([])) s.NoBlock (s.Then 4 (s.Release 3 4 ([])) s.NoBlock (s.Then 5 (s.Load 1 ([]) ([])) s.NoBlock (s.Then 6 (s.Load 1 ([]) ([])) s.NoBlock (s.Then 7 (s.Set ([]) ([])) s.NoBlock (s.Then 8 (s.Block 3 (record { opened = []; facts = ([]); locals = ((name_s, (Of unary.Vi (Number (pos 3)))) ∷ (name_t, (Of unary.Vi (Number (pos 1)))) ∷ (name_d0, (Of unary.Vi (Number (pos 2)))) ∷ []); items = ((Data (Number (pos 64)) (Global name_g) (Of2 binary.Cons (Of unary.Vi (Number (pos 3))) Nil)) ∷ (Data (Number (pos 64)) (Global name_arr) (Of2 binary.Cons (Of unary.Vi (Number (pos 1))) (Of2 binary.Cons (Of unary.Vi (Number (pos 2))) (Of2 binary.Cons (Of unary.Vi (Number (pos 0))) (Of2 binary.Cons (Of unary.Vi (Number (pos 0))) Nil))))) ∷ (Lock (Number (pos 64)) (Global name_l) (record { name = name_iv; args = ([]) })) ∷ []) }) ([]) ([])) (s.WithBlock (s.Then 9 (s.Set ([]) ([])) s.NoBlock (s.Then 10 (s.Set ([]) ([])) s.NoBlock (s.Then 11 (s.Set ([]) ([])) s.NoBlock (s.Then 12 (s.Fall ([]) ([])) s.NoBlock s.End)))) s.NoBlock) (s.Then 13 (s.Pose (record { opened = []; facts = ([]); locals = ((name_s, (Of unary.Vi (Number (pos 3)))) ∷ (name_t, (Of unary.Vi (Number (pos 1)))) ∷ (name_d0, (Of unary.Vi (Number (pos 2)))) ∷ []); items = ((Data (Number (pos 64)) (Global name_g) (Of2 binary.Cons (Of unary.Vi (Number (pos 3))) Nil)) ∷ (Data (Number (pos 64)) (Global name_arr) (Of2 binary.Cons (Of unary.Vi (Number (pos 1))) (Of2 binary.Cons (Of unary.Vi (Number (pos 2))) (Of2 binary.Cons (Of unary.Vi (Number (pos 0))) (Of2 binary.Cons (Of unary.Vi (Number (pos 0))) Nil))))) ∷ (Lock (Number (pos 64)) (Global name_l) (record { name = name_iv; args = ([]) })) ∷ []) }) ([]) ([])) (s.WithBlock (s.Then 14 (s.Meet ([]) ([])) s.NoBlock s.End) s.NoBlock) (s.Then 15 (s.Acquire 2 ([])) s.NoBlock (s.Then 16 (s.Unfold 4 ((name_k1 ∷ []) ∷ [])) (s.WithBlock (s.Then 17 (s.Load 4 ([]) ([])) s.NoBlock (s.Then 18 (s.Fold name_iv 0 ([]) ((Named name_k1) ∷ []) ([])) s.NoBlock (s.Then 19 (s.Release 3 4 ([])) s.NoBlock (s.Then 20 (s.Acquire 2 ([])) s.NoBlock (s.Then 21 (s.Have (Rel relation.Eq (Number (pos 5)) (Number (pos 5))) ([])) s.NoBlock (s.Then 22 (s.FreeLock 2 3 ([]) ([])) s.NoBlock (s.Then 23 (s.Return ([]) ([]) ([])) s.NoBlock s.End))))))) s.NoBlock) s.End))))))))))) ≡ (RefusedAt 6 3 3)
unfolding computing
random_943 = refl

random_944 : body_verdict (record { predicates = ((record { name = name_iv; args = ([]); cases = ((record { opened = (sort.Int ∷ []); facts = ((Rel relation.Le (Number (pos 0)) (Var 0 sort.Int)) ∷ (Rel relation.Le (Var 0 sort.Int) (Number (pos 50))) ∷ []); locals = []; items = ((Data (Number (pos 64)) (Global name_x) (Of2 binary.Cons (Of unary.Vi (Var 0 sort.Int)) Nil)) ∷ []) }) ∷ []) }) ∷ []); specs = ((record { is_void = false; name = name_main; params = ([]); vars = []; pre = (record { opened = []; facts = ([]); locals = []; items = ((Data (Number (pos 64)) (Global name_x) (Of2 binary.Cons (Of unary.Vi (Number (pos 3))) Nil)) ∷ (Data (Number (pos 64)) (Global name_g) (Of2 binary.Cons (Of unary.Vi (Number (pos 3))) Nil)) ∷ (Data (Number (pos 64)) (Global name_arr) (Of2 binary.Cons (Of unary.Vi (Number (pos 1))) (Of2 binary.Cons (Of unary.Vi (Number (pos 2))) (Of2 binary.Cons (Of unary.Vi (Number (pos 0))) (Of2 binary.Cons (Of unary.Vi (Number (pos 0))) Nil))))) ∷ (Data (Number (pos 64)) (Global name_l) (Of2 binary.Cons (Of unary.Vi (Number (pos 0))) Nil)) ∷ []) }); post = (record { opened = []; facts = ((Rel relation.Eq (Var 0 sort.Val) (Of unary.Vi (Number (pos 7)))) ∷ []); locals = []; items = ((Data (Number (pos 64)) (Global name_g) (Of2 binary.Cons (Of unary.Vi (Number (pos 3))) Nil)) ∷ (Data (Number (pos 64)) (Global name_arr) (Of2 binary.Cons (Of unary.Vi (Number (pos 1))) (Of2 binary.Cons (Of unary.Vi (Number (pos 2))) (Of2 binary.Cons (Of unary.Vi (Number (pos 0))) (Of2 binary.Cons (Of unary.Vi (Number (pos 0))) Nil))))) ∷ (Pred (record { name = name_iv; args = ([]) })) ∷ (Data (Number (pos 64)) (Global name_l) (Of2 binary.Cons Undef Nil)) ∷ []) }) }) ∷ []) }) (record { is_void = false; name = name_main; params = ([]); vars = []; pre = (record { opened = []; facts = ([]); locals = []; items = ((Data (Number (pos 64)) (Global name_x) (Of2 binary.Cons (Of unary.Vi (Number (pos 3))) Nil)) ∷ (Data (Number (pos 64)) (Global name_g) (Of2 binary.Cons (Of unary.Vi (Number (pos 3))) Nil)) ∷ (Data (Number (pos 64)) (Global name_arr) (Of2 binary.Cons (Of unary.Vi (Number (pos 1))) (Of2 binary.Cons (Of unary.Vi (Number (pos 2))) (Of2 binary.Cons (Of unary.Vi (Number (pos 0))) (Of2 binary.Cons (Of unary.Vi (Number (pos 0))) Nil))))) ∷ (Data (Number (pos 64)) (Global name_l) (Of2 binary.Cons (Of unary.Vi (Number (pos 0))) Nil)) ∷ []) }); post = (record { opened = []; facts = ((Rel relation.Eq (Var 0 sort.Val) (Of unary.Vi (Number (pos 7)))) ∷ []); locals = []; items = ((Data (Number (pos 64)) (Global name_g) (Of2 binary.Cons (Of unary.Vi (Number (pos 3))) Nil)) ∷ (Data (Number (pos 64)) (Global name_arr) (Of2 binary.Cons (Of unary.Vi (Number (pos 1))) (Of2 binary.Cons (Of unary.Vi (Number (pos 2))) (Of2 binary.Cons (Of unary.Vi (Number (pos 0))) (Of2 binary.Cons (Of unary.Vi (Number (pos 0))) Nil))))) ∷ (Pred (record { name = name_iv; args = ([]) })) ∷ (Data (Number (pos 64)) (Global name_l) (Of2 binary.Cons Undef Nil)) ∷ []) }) }) (record { temps = (name_s ∷ name_t ∷ name_i ∷ name_x1 ∷ name_d0 ∷ name_p1 ∷ name_q1 ∷ []); body = (c.Then (c.Set 0 (c.Const 2)) (c.Then (c.OnLock lock.Make (c.Address (root.Global name_l 1) c.Here)) (c.Then (c.OnLock lock.Release (c.Address (root.Global name_l 1) c.Here)) (c.Then (c.Load 0 (root.Global name_arr 4) (c.Index kind.Signed (c.Const 1) c.Here)) (c.Then (c.Load 1 (root.Global name_arr 4) (c.Index kind.Signed (c.Const 0) c.Here)) (c.Then (c.Set 0 (c.Const 1)) (c.Then (c.Set 4 (c.Binary two.Add kind.Signed (c.Const 1) (c.Const 1))) (c.Then (c.Set 4 (c.Const 2)) (c.Then (c.Set 0 (c.Binary two.Add kind.Signed (c.Temp 4) (c.Const 1))) (c.Then (c.OnLock lock.Acquire (c.Address (root.Global name_l 1) c.Here)) (c.Then (c.Load 1 (root.Global name_x 1) c.Here) (c.Then (c.OnLock lock.Release (c.Address (root.Global name_l 1) c.Here)) (c.Then (c.OnLock lock.Acquire (c.Address (root.Global name_l 1) c.Here)) (c.Then (c.OnLock lock.Free (c.Address (root.Global name_l 1) c.Here)) (c.Then (c.Return (Some (c.Const 7))) c.End))))))))))))))) }) (s.Then 1 (s.Set ([]) ([])) s.NoBlock (s.Then 2 (s.MakeLock 3 (record { name = name_iv; args = ([]) }) ([]) ([])) s.NoBlock (s.Then 3 (s.Fold name_iv 0 ([]) ((Number (pos 3)) ∷ []) ([])) s.NoBlock (s.Then 4 (s.Release 3 4 ([])) s.NoBlock (s.Then 5 (s.Load 1 ([]) ([])) s.NoBlock (s.Then 6 (s.Load 1 ([]) ([])) s.NoBlock (s.Then 7 (s.Block 3 (record { opened = []; facts = ([]); locals = ((name_s, (Of unary.Vi (Number (pos 3)))) ∷ (name_t, (Of unary.Vi (Number (pos 1)))) ∷ (name_d0, (Of unary.Vi (Number (pos 2)))) ∷ []); items = ((Data (Number (pos 64)) (Global name_g) (Of2 binary.Cons (Of unary.Vi (Number (pos 3))) Nil)) ∷ (Data (Number (pos 64)) (Global name_arr) (Of2 binary.Cons (Of unary.Vi (Number (pos 1))) (Of2 binary.Cons (Of unary.Vi (Number (pos 2))) (Of2 binary.Cons (Of unary.Vi (Number (pos 0))) (Of2 binary.Cons (Of unary.Vi (Number (pos 0))) Nil))))) ∷ (Lock (Number (pos 64)) (Global name_l) (record { name = name_iv; args = ([]) })) ∷ []) }) ([]) ([])) (s.WithBlock (s.Then 8 (s.Set ([]) ([])) s.NoBlock (s.Then 9 (s.Set ([]) ([])) s.NoBlock (s.Then 10 (s.Set ([]) ([])) s.NoBlock (s.Then 11 (s.Set ([]) ([])) s.NoBlock (s.Then 12 (s.Fall ([]) ([])) s.NoBlock s.End))))) s.NoBlock) (s.Then 13 (s.Pose (record { opened = []; facts = ([]); locals = ((name_s, (Of unary.Vi (Number (pos 3)))) ∷ (name_t, (Of unary.Vi (Number (pos 1)))) ∷ (name_d0, (Of unary.Vi (Number (pos 2)))) ∷ []); items = ((Data (Number (pos 64)) (Global name_g) (Of2 binary.Cons (Of unary.Vi (Number (pos 3))) Nil)) ∷ (Data (Number (pos 64)) (Global name_arr) (Of2 binary.Cons (Of unary.Vi (Number (pos 1))) (Of2 binary.Cons (Of unary.Vi (Number (pos 2))) (Of2 binary.Cons (Of unary.Vi (Number (pos 0))) (Of2 binary.Cons (Of unary.Vi (Number (pos 0))) Nil))))) ∷ (Lock (Number (pos 64)) (Global name_l) (record { name = name_iv; args = ([]) })) ∷ []) }) ([]) ([])) (s.WithBlock (s.Then 14 (s.Meet ([]) ([])) s.NoBlock s.End) s.NoBlock) (s.Then 15 (s.Acquire 2 ([])) s.NoBlock (s.Then 16 (s.Unfold 4 ((name_k1 ∷ []) ∷ [])) (s.WithBlock (s.Then 17 (s.Load 4 ([]) ([])) s.NoBlock (s.Then 18 (s.Fold name_iv 0 ([]) ((Named name_k1) ∷ []) ([])) s.NoBlock (s.Then 19 (s.Release 3 4 ([])) s.NoBlock (s.Then 20 (s.Acquire 2 ([])) s.NoBlock (s.Then 21 (s.Have (Rel relation.Eq (Number (pos 5)) (Number (pos 5))) ([])) s.NoBlock (s.Then 22 (s.FreeLock 2 3 ([]) ([])) s.NoBlock (s.Then 23 (s.Return ([]) ([]) ([])) s.NoBlock s.End))))))) s.NoBlock) s.End)))))))))) ≡ (RefusedAt 11 2 1)
unfolding computing
random_944 = refl

random_945 : body_verdict (record { predicates = ((record { name = name_iv; args = ([]); cases = ((record { opened = (sort.Int ∷ []); facts = ((Rel relation.Le (Number (pos 0)) (Var 0 sort.Int)) ∷ (Rel relation.Le (Var 0 sort.Int) (Number (pos 50))) ∷ []); locals = []; items = ((Data (Number (pos 64)) (Global name_x) (Of2 binary.Cons (Of unary.Vi (Var 0 sort.Int)) Nil)) ∷ []) }) ∷ []) }) ∷ []); specs = ((record { is_void = false; name = name_main; params = ([]); vars = []; pre = (record { opened = []; facts = ([]); locals = []; items = ((Data (Number (pos 64)) (Global name_x) (Of2 binary.Cons (Of unary.Vi (Number (pos 3))) Nil)) ∷ (Data (Number (pos 64)) (Global name_g) (Of2 binary.Cons (Of unary.Vi (Number (pos 3))) Nil)) ∷ (Data (Number (pos 64)) (Global name_arr) (Of2 binary.Cons (Of unary.Vi (Number (pos 1))) (Of2 binary.Cons (Of unary.Vi (Number (pos 2))) (Of2 binary.Cons (Of unary.Vi (Number (pos 0))) (Of2 binary.Cons (Of unary.Vi (Number (pos 0))) Nil))))) ∷ (Data (Number (pos 64)) (Global name_l) (Of2 binary.Cons (Of unary.Vi (Number (pos 0))) Nil)) ∷ []) }); post = (record { opened = []; facts = ((Rel relation.Eq (Var 0 sort.Val) (Of unary.Vi (Number (pos 7)))) ∷ []); locals = []; items = ((Data (Number (pos 64)) (Global name_g) (Of2 binary.Cons (Of unary.Vi (Number (pos 3))) Nil)) ∷ (Data (Number (pos 64)) (Global name_arr) (Of2 binary.Cons (Of unary.Vi (Number (pos 1))) (Of2 binary.Cons (Of unary.Vi (Number (pos 2))) (Of2 binary.Cons (Of unary.Vi (Number (pos 0))) (Of2 binary.Cons (Of unary.Vi (Number (pos 0))) Nil))))) ∷ (Pred (record { name = name_iv; args = ([]) })) ∷ (Data (Number (pos 64)) (Global name_l) (Of2 binary.Cons Undef Nil)) ∷ []) }) }) ∷ []) }) (record { is_void = false; name = name_main; params = ([]); vars = []; pre = (record { opened = []; facts = ([]); locals = []; items = ((Data (Number (pos 64)) (Global name_x) (Of2 binary.Cons (Of unary.Vi (Number (pos 3))) Nil)) ∷ (Data (Number (pos 64)) (Global name_g) (Of2 binary.Cons (Of unary.Vi (Number (pos 3))) Nil)) ∷ (Data (Number (pos 64)) (Global name_arr) (Of2 binary.Cons (Of unary.Vi (Number (pos 1))) (Of2 binary.Cons (Of unary.Vi (Number (pos 2))) (Of2 binary.Cons (Of unary.Vi (Number (pos 0))) (Of2 binary.Cons (Of unary.Vi (Number (pos 0))) Nil))))) ∷ (Data (Number (pos 64)) (Global name_l) (Of2 binary.Cons (Of unary.Vi (Number (pos 0))) Nil)) ∷ []) }); post = (record { opened = []; facts = ((Rel relation.Eq (Var 0 sort.Val) (Of unary.Vi (Number (pos 7)))) ∷ []); locals = []; items = ((Data (Number (pos 64)) (Global name_g) (Of2 binary.Cons (Of unary.Vi (Number (pos 3))) Nil)) ∷ (Data (Number (pos 64)) (Global name_arr) (Of2 binary.Cons (Of unary.Vi (Number (pos 1))) (Of2 binary.Cons (Of unary.Vi (Number (pos 2))) (Of2 binary.Cons (Of unary.Vi (Number (pos 0))) (Of2 binary.Cons (Of unary.Vi (Number (pos 0))) Nil))))) ∷ (Pred (record { name = name_iv; args = ([]) })) ∷ (Data (Number (pos 64)) (Global name_l) (Of2 binary.Cons Undef Nil)) ∷ []) }) }) (record { temps = (name_s ∷ name_t ∷ name_i ∷ name_x1 ∷ name_d0 ∷ name_p1 ∷ name_q1 ∷ []); body = (c.Then (c.Set 0 (c.Const 2)) (c.Then (c.OnLock lock.Make (c.Address (root.Global name_l 1) c.Here)) (c.Then (c.OnLock lock.Release (c.Address (root.Global name_l 1) c.Here)) (c.Then (c.Load 0 (root.Global name_arr 4) (c.Index kind.Signed (c.Const 1) c.Here)) (c.Then (c.Load 1 (root.Global name_arr 4) (c.Index kind.Signed (c.Const 0) c.Here)) (c.Then (c.Set 0 (c.Const 1)) (c.Then (c.Set 4 (c.Binary two.Add kind.Signed (c.Const 1) (c.Const 1))) (c.Then (c.Set 4 (c.Const 2)) (c.Then (c.Set 0 (c.Binary two.Add kind.Signed (c.Temp 4) (c.Const 1))) (c.Then (c.OnLock lock.Acquire (c.Address (root.Global name_l 1) c.Here)) (c.Then (c.Load 1 (root.Global name_x 1) c.Here) (c.Then (c.OnLock lock.Release (c.Address (root.Global name_l 1) c.Here)) (c.Then (c.OnLock lock.Acquire (c.Address (root.Global name_l 1) c.Here)) (c.Then (c.OnLock lock.Free (c.Address (root.Global name_l 1) c.Here)) (c.Then (c.Return (Some (c.Const 7))) c.End))))))))))))))) }) (s.Then 1 (s.Set ([]) ([])) s.NoBlock (s.Then 2 (s.MakeLock 3 (record { name = name_iv; args = ([]) }) ([]) ([])) s.NoBlock (s.Then 3 (s.Fold name_iv 0 ([]) ((Number (pos 3)) ∷ []) ([])) s.NoBlock (s.Then 4 (s.Release 3 4 ([])) s.NoBlock (s.Then 5 (s.Load 1 ([]) ([])) s.NoBlock (s.Then 6 (s.Load 1 ([]) ([])) s.NoBlock (s.Then 7 (s.Set ([]) ([])) s.NoBlock (s.Then 8 (s.Block 3 (record { opened = []; facts = ([]); locals = ((name_s, (Of unary.Vi (Number (pos 3)))) ∷ (name_t, (Of unary.Vi (Number (pos 1)))) ∷ (name_d0, (Of unary.Vi (Number (pos 2)))) ∷ []); items = ((Data (Number (pos 64)) (Global name_g) (Of2 binary.Cons (Of unary.Vi (Number (pos 3))) Nil)) ∷ (Data (Number (pos 64)) (Global name_arr) (Of2 binary.Cons (Of unary.Vi (Number (pos 1))) (Of2 binary.Cons (Of unary.Vi (Number (pos 2))) (Of2 binary.Cons (Of unary.Vi (Number (pos 0))) (Of2 binary.Cons (Of unary.Vi (Number (pos 0))) Nil))))) ∷ (Lock (Number (pos 64)) (Global name_l) (record { name = name_iv; args = ([]) })) ∷ []) }) ([]) ([])) (s.WithBlock (s.Then 9 (s.Set ([]) ([])) s.NoBlock (s.Then 10 (s.Set ([]) ([])) s.NoBlock (s.Then 11 (s.Set ([]) ([])) s.NoBlock (s.Then 12 (s.Fall ([]) ([])) s.NoBlock s.End)))) s.NoBlock) (s.Then 13 (s.Pose (record { opened = []; facts = ([]); locals = ((name_s, (Of unary.Vi (Number (pos 3)))) ∷ (name_t, (Of unary.Vi (Number (pos 64)))) ∷ (name_d0, (Of unary.Vi (Number (pos 2)))) ∷ []); items = ((Data (Number (pos 64)) (Global name_g) (Of2 binary.Cons (Of unary.Vi (Number (pos 3))) Nil)) ∷ (Data (Number (pos 64)) (Global name_arr) (Of2 binary.Cons (Of unary.Vi (Number (pos 1))) (Of2 binary.Cons (Of unary.Vi (Number (pos 2))) (Of2 binary.Cons (Of unary.Vi (Number (pos 0))) (Of2 binary.Cons (Of unary.Vi (Number (pos 0))) Nil))))) ∷ (Lock (Number (pos 64)) (Global name_l) (record { name = name_iv; args = ([]) })) ∷ []) }) ([]) ([])) (s.WithBlock (s.Then 14 (s.Meet ([]) ([])) s.NoBlock s.End) s.NoBlock) (s.Then 15 (s.Acquire 2 ([])) s.NoBlock (s.Then 16 (s.Unfold 4 ((name_k1 ∷ []) ∷ [])) (s.WithBlock (s.Then 17 (s.Load 4 ([]) ([])) s.NoBlock (s.Then 18 (s.Fold name_iv 0 ([]) ((Named name_k1) ∷ []) ([])) s.NoBlock (s.Then 19 (s.Release 3 4 ([])) s.NoBlock (s.Then 20 (s.Acquire 2 ([])) s.NoBlock (s.Then 21 (s.Have (Rel relation.Eq (Number (pos 5)) (Number (pos 5))) ([])) s.NoBlock (s.Then 22 (s.FreeLock 2 3 ([]) ([])) s.NoBlock (s.Then 23 (s.Return ([]) ([]) ([])) s.NoBlock s.End))))))) s.NoBlock) s.End))))))))))) ≡ (RefusedAt 14 37 4)
unfolding computing
random_945 = refl

random_946 : body_verdict (record { predicates = ((record { name = name_iv; args = ([]); cases = ((record { opened = (sort.Int ∷ []); facts = ((Rel relation.Le (Number (pos 0)) (Var 0 sort.Int)) ∷ (Rel relation.Le (Var 0 sort.Int) (Number (pos 50))) ∷ []); locals = []; items = ((Data (Number (pos 64)) (Global name_x) (Of2 binary.Cons (Of unary.Vi (Var 0 sort.Int)) Nil)) ∷ []) }) ∷ []) }) ∷ []); specs = ((record { is_void = false; name = name_main; params = ([]); vars = []; pre = (record { opened = []; facts = ([]); locals = []; items = ((Data (Number (pos 64)) (Global name_x) (Of2 binary.Cons (Of unary.Vi (Number (pos 3))) Nil)) ∷ (Data (Number (pos 64)) (Global name_g) (Of2 binary.Cons (Of unary.Vi (Number (pos 3))) Nil)) ∷ (Data (Number (pos 64)) (Global name_arr) (Of2 binary.Cons (Of unary.Vi (Number (pos 1))) (Of2 binary.Cons (Of unary.Vi (Number (pos 2))) (Of2 binary.Cons (Of unary.Vi (Number (pos 0))) (Of2 binary.Cons (Of unary.Vi (Number (pos 0))) Nil))))) ∷ (Data (Number (pos 64)) (Global name_l) (Of2 binary.Cons (Of unary.Vi (Number (pos 0))) Nil)) ∷ []) }); post = (record { opened = []; facts = ((Rel relation.Eq (Var 0 sort.Val) (Of unary.Vi (Number (pos 7)))) ∷ []); locals = []; items = ((Data (Number (pos 64)) (Global name_g) (Of2 binary.Cons (Of unary.Vi (Number (pos 3))) Nil)) ∷ (Data (Number (pos 64)) (Global name_arr) (Of2 binary.Cons (Of unary.Vi (Number (pos 1))) (Of2 binary.Cons (Of unary.Vi (Number (pos 2))) (Of2 binary.Cons (Of unary.Vi (Number (pos 0))) (Of2 binary.Cons (Of unary.Vi (Number (pos 0))) Nil))))) ∷ (Pred (record { name = name_iv; args = ([]) })) ∷ (Data (Number (pos 64)) (Global name_l) (Of2 binary.Cons Undef Nil)) ∷ []) }) }) ∷ []) }) (record { is_void = false; name = name_main; params = ([]); vars = []; pre = (record { opened = []; facts = ([]); locals = []; items = ((Data (Number (pos 64)) (Global name_x) (Of2 binary.Cons (Of unary.Vi (Number (pos 3))) Nil)) ∷ (Data (Number (pos 64)) (Global name_g) (Of2 binary.Cons (Of unary.Vi (Number (pos 3))) Nil)) ∷ (Data (Number (pos 64)) (Global name_arr) (Of2 binary.Cons (Of unary.Vi (Number (pos 1))) (Of2 binary.Cons (Of unary.Vi (Number (pos 2))) (Of2 binary.Cons (Of unary.Vi (Number (pos 0))) (Of2 binary.Cons (Of unary.Vi (Number (pos 0))) Nil))))) ∷ (Data (Number (pos 64)) (Global name_l) (Of2 binary.Cons (Of unary.Vi (Number (pos 0))) Nil)) ∷ []) }); post = (record { opened = []; facts = ((Rel relation.Eq (Var 0 sort.Val) (Of unary.Vi (Number (pos 7)))) ∷ []); locals = []; items = ((Data (Number (pos 64)) (Global name_g) (Of2 binary.Cons (Of unary.Vi (Number (pos 3))) Nil)) ∷ (Data (Number (pos 64)) (Global name_arr) (Of2 binary.Cons (Of unary.Vi (Number (pos 1))) (Of2 binary.Cons (Of unary.Vi (Number (pos 2))) (Of2 binary.Cons (Of unary.Vi (Number (pos 0))) (Of2 binary.Cons (Of unary.Vi (Number (pos 0))) Nil))))) ∷ (Pred (record { name = name_iv; args = ([]) })) ∷ (Data (Number (pos 64)) (Global name_l) (Of2 binary.Cons Undef Nil)) ∷ []) }) }) (record { temps = (name_s ∷ name_t ∷ name_i ∷ name_x1 ∷ name_d0 ∷ name_p1 ∷ name_q1 ∷ []); body = (c.Then (c.Set 0 (c.Const 2)) (c.Then (c.OnLock lock.Make (c.Address (root.Global name_l 1) c.Here)) (c.Then (c.OnLock lock.Release (c.Address (root.Global name_l 1) c.Here)) (c.Then (c.Load 0 (root.Global name_arr 4) (c.Index kind.Signed (c.Const 1) c.Here)) (c.Then (c.Load 1 (root.Global name_arr 4) (c.Index kind.Signed (c.Const 0) c.Here)) (c.Then (c.Set 0 (c.Const 1)) (c.Then (c.Set 4 (c.Binary two.Add kind.Signed (c.Const 1) (c.Const 1))) (c.Then (c.Set 4 (c.Const 2)) (c.Then (c.Set 0 (c.Binary two.Add kind.Signed (c.Temp 4) (c.Const 1))) (c.Then (c.OnLock lock.Acquire (c.Address (root.Global name_l 1) c.Here)) (c.Then (c.Load 1 (root.Global name_x 1) c.Here) (c.Then (c.OnLock lock.Release (c.Address (root.Global name_l 1) c.Here)) (c.Then (c.OnLock lock.Acquire (c.Address (root.Global name_l 1) c.Here)) (c.Then (c.OnLock lock.Free (c.Address (root.Global name_l 1) c.Here)) (c.Then (c.Return (Some (c.Const 7))) c.End))))))))))))))) }) (s.Then 1 (s.Set ([]) ([])) s.NoBlock (s.Then 2 (s.MakeLock 3 (record { name = name_iv; args = ([]) }) ([]) ([])) s.NoBlock (s.Then 3 (s.Fold name_iv 0 ([]) ((Number (pos 3)) ∷ []) ([])) s.NoBlock (s.Then 4 (s.Release 3 4 ([])) s.NoBlock (s.Then 5 (s.Load 1 ([]) ([])) s.NoBlock (s.Then 6 (s.Load 1 ([]) ([])) s.NoBlock (s.Then 7 (s.Set ([]) ([])) s.NoBlock (s.Then 8 (s.Block 3 (record { opened = []; facts = ([]); locals = ((name_s, (Of unary.Vi (Number (pos 3)))) ∷ (name_t, (Of unary.Vi (Number (pos 1)))) ∷ (name_d0, (Of unary.Vi (Number (pos 2)))) ∷ []); items = ((Data (Number (pos 64)) (Global name_g) (Of2 binary.Cons (Of unary.Vi (Number (pos 3))) Nil)) ∷ (Data (Number (pos 64)) (Global name_arr) (Of2 binary.Cons (Of unary.Vi (Number (pos 1))) (Of2 binary.Cons (Of unary.Vi (Number (pos 2))) (Of2 binary.Cons (Of unary.Vi (Number (pos 0))) (Of2 binary.Cons (Of unary.Vi (Number (pos 0))) Nil))))) ∷ (Lock (Number (pos 64)) (Global name_l) (record { name = name_iv; args = ([]) })) ∷ []) }) ([]) ([])) (s.WithBlock (s.Then 9 (s.Set ([]) ([])) s.NoBlock (s.Then 10 (s.Set ([]) ([])) s.NoBlock (s.Then 11 (s.Set ([]) ([])) s.NoBlock (s.Then 12 (s.Fall ([]) ([])) s.NoBlock s.End)))) s.NoBlock) (s.Then 13 (s.Pose (record { opened = []; facts = ([]); locals = ((name_s, (Of unary.Vi (Number (pos 3)))) ∷ (name_t, (Of unary.Vi (Number (pos 1)))) ∷ (name_d0, (Of unary.Vi (Number (pos 2)))) ∷ []); items = ((Data (Number (pos 64)) (Global name_g) (Of2 binary.Cons (Of unary.Vi (Number (pos 3))) Nil)) ∷ (Data (Number (pos 64)) (Global name_arr) (Of2 binary.Cons (Of unary.Vi (Number (pos 1))) (Of2 binary.Cons (Of unary.Vi (Number (pos 2))) (Of2 binary.Cons (Of unary.Vi (Number (pos 0))) (Of2 binary.Cons (Of unary.Vi (Number (pos 0))) Nil))))) ∷ (Lock (Number (pos 64)) (Global name_l) (record { name = name_iv; args = ([]) })) ∷ []) }) ([]) ([])) (s.WithBlock (s.Then 14 (s.Meet ([]) ([])) s.NoBlock s.End) s.NoBlock) (s.Then 15 (s.Acquire 2 ([])) s.NoBlock (s.Then 16 (s.Unfold 4 ((name_k1 ∷ []) ∷ [])) (s.WithBlock (s.Then 17 (s.Load 4 ([]) ([])) s.NoBlock (s.Then 18 (s.Fold name_iv 0 ([]) ((Named name_k1) ∷ []) ([])) s.NoBlock (s.Then 19 (s.Release 3 4 ([])) s.NoBlock (s.Then 20 (s.Acquire 2 ([])) s.NoBlock (s.Then 21 (s.FreeLock 2 3 ([]) ([])) s.NoBlock (s.Then 22 (s.Have (Rel relation.Eq (Number (pos 5)) (Number (pos 5))) ([])) s.NoBlock (s.Then 23 (s.Return ([]) ([]) ([])) s.NoBlock s.End))))))) s.NoBlock) s.End))))))))))) ≡ Accepted
unfolding computing
random_946 = refl

random_947 : body_verdict (record { predicates = ((record { name = name_iv; args = ([]); cases = ((record { opened = (sort.Int ∷ []); facts = ((Rel relation.Le (Number (pos 0)) (Var 0 sort.Int)) ∷ (Rel relation.Le (Var 0 sort.Int) (Number (pos 50))) ∷ []); locals = []; items = ((Data (Number (pos 64)) (Global name_x) (Of2 binary.Cons (Of unary.Vi (Var 0 sort.Int)) Nil)) ∷ []) }) ∷ []) }) ∷ []); specs = ((record { is_void = false; name = name_main; params = ([]); vars = []; pre = (record { opened = []; facts = ([]); locals = []; items = ((Data (Number (pos 64)) (Global name_x) (Of2 binary.Cons (Of unary.Vi (Number (pos 3))) Nil)) ∷ (Data (Number (pos 64)) (Global name_g) (Of2 binary.Cons (Of unary.Vi (Number (pos 3))) Nil)) ∷ (Data (Number (pos 64)) (Global name_arr) (Of2 binary.Cons (Of unary.Vi (Number (pos 1))) (Of2 binary.Cons (Of unary.Vi (Number (pos 2))) (Of2 binary.Cons (Of unary.Vi (Number (pos 0))) (Of2 binary.Cons (Of unary.Vi (Number (pos 0))) Nil))))) ∷ (Data (Number (pos 64)) (Global name_l) (Of2 binary.Cons (Of unary.Vi (Number (pos 0))) Nil)) ∷ []) }); post = (record { opened = []; facts = ((Rel relation.Eq (Var 0 sort.Val) (Of unary.Vi (Number (pos 7)))) ∷ []); locals = []; items = ((Data (Number (pos 64)) (Global name_g) (Of2 binary.Cons (Of unary.Vi (Number (pos 3))) Nil)) ∷ (Data (Number (pos 64)) (Global name_arr) (Of2 binary.Cons (Of unary.Vi (Number (pos 1))) (Of2 binary.Cons (Of unary.Vi (Number (pos 2))) (Of2 binary.Cons (Of unary.Vi (Number (pos 0))) (Of2 binary.Cons (Of unary.Vi (Number (pos 0))) Nil))))) ∷ (Pred (record { name = name_iv; args = ([]) })) ∷ (Data (Number (pos 64)) (Global name_l) (Of2 binary.Cons Undef Nil)) ∷ []) }) }) ∷ []) }) (record { is_void = false; name = name_main; params = ([]); vars = []; pre = (record { opened = []; facts = ([]); locals = []; items = ((Data (Number (pos 64)) (Global name_x) (Of2 binary.Cons (Of unary.Vi (Number (pos 3))) Nil)) ∷ (Data (Number (pos 64)) (Global name_g) (Of2 binary.Cons (Of unary.Vi (Number (pos 3))) Nil)) ∷ (Data (Number (pos 64)) (Global name_arr) (Of2 binary.Cons (Of unary.Vi (Number (pos 1))) (Of2 binary.Cons (Of unary.Vi (Number (pos 2))) (Of2 binary.Cons (Of unary.Vi (Number (pos 0))) (Of2 binary.Cons (Of unary.Vi (Number (pos 0))) Nil))))) ∷ (Data (Number (pos 64)) (Global name_l) (Of2 binary.Cons (Of unary.Vi (Number (pos 0))) Nil)) ∷ []) }); post = (record { opened = []; facts = ((Rel relation.Eq (Var 0 sort.Val) (Of unary.Vi (Number (pos 7)))) ∷ []); locals = []; items = ((Data (Number (pos 64)) (Global name_g) (Of2 binary.Cons (Of unary.Vi (Number (pos 3))) Nil)) ∷ (Data (Number (pos 64)) (Global name_arr) (Of2 binary.Cons (Of unary.Vi (Number (pos 1))) (Of2 binary.Cons (Of unary.Vi (Number (pos 2))) (Of2 binary.Cons (Of unary.Vi (Number (pos 0))) (Of2 binary.Cons (Of unary.Vi (Number (pos 0))) Nil))))) ∷ (Pred (record { name = name_iv; args = ([]) })) ∷ (Data (Number (pos 64)) (Global name_l) (Of2 binary.Cons Undef Nil)) ∷ []) }) }) (record { temps = (name_s ∷ name_t ∷ name_i ∷ name_x1 ∷ name_d0 ∷ name_p1 ∷ name_q1 ∷ []); body = (c.Then (c.Set 0 (c.Const 2)) (c.Then (c.OnLock lock.Make (c.Address (root.Global name_l 1) c.Here)) (c.Then (c.OnLock lock.Release (c.Address (root.Global name_l 1) c.Here)) (c.Then (c.Load 0 (root.Global name_arr 4) (c.Index kind.Signed (c.Const 1) c.Here)) (c.Then (c.Load 1 (root.Global name_arr 4) (c.Index kind.Signed (c.Const 0) c.Here)) (c.Then (c.Set 0 (c.Const 1)) (c.Then (c.Set 4 (c.Binary two.Add kind.Signed (c.Const 1) (c.Const 1))) (c.Then (c.Set 4 (c.Const 5)) (c.Then (c.Set 0 (c.Binary two.Add kind.Signed (c.Temp 4) (c.Const 1))) (c.Then (c.OnLock lock.Acquire (c.Address (root.Global name_l 1) c.Here)) (c.Then (c.Load 1 (root.Global name_x 1) c.Here) (c.Then (c.OnLock lock.Release (c.Address (root.Global name_l 1) c.Here)) (c.Then (c.OnLock lock.Acquire (c.Address (root.Global name_l 1) c.Here)) (c.Then (c.OnLock lock.Free (c.Address (root.Global name_l 1) c.Here)) (c.Then (c.Return (Some (c.Const 7))) c.End))))))))))))))) }) (s.Then 1 (s.Set ([]) ([])) s.NoBlock (s.Then 2 (s.MakeLock 3 (record { name = name_iv; args = ([]) }) ([]) ([])) s.NoBlock (s.Then 3 (s.Fold name_iv 0 ([]) ((Number (pos 3)) ∷ []) ([])) s.NoBlock (s.Then 4 (s.Release 3 4 ([])) s.NoBlock (s.Then 5 (s.Load 1 ([]) ([])) s.NoBlock (s.Then 6 (s.Load 1 ([]) ([])) s.NoBlock (s.Then 7 (s.Set ([]) ([])) s.NoBlock (s.Then 8 (s.Block 3 (record { opened = []; facts = ([]); locals = ((name_s, (Of unary.Vi (Number (pos 3)))) ∷ (name_t, (Of unary.Vi (Number (pos 1)))) ∷ (name_d0, (Of unary.Vi (Number (pos 2)))) ∷ []); items = ((Data (Number (pos 64)) (Global name_g) (Of2 binary.Cons (Of unary.Vi (Number (pos 3))) Nil)) ∷ (Data (Number (pos 64)) (Global name_arr) (Of2 binary.Cons (Of unary.Vi (Number (pos 1))) (Of2 binary.Cons (Of unary.Vi (Number (pos 2))) (Of2 binary.Cons (Of unary.Vi (Number (pos 0))) (Of2 binary.Cons (Of unary.Vi (Number (pos 0))) Nil))))) ∷ (Lock (Number (pos 64)) (Global name_l) (record { name = name_iv; args = ([]) })) ∷ []) }) ([]) ([])) (s.WithBlock (s.Then 9 (s.Set ([]) ([])) s.NoBlock (s.Then 10 (s.Set ([]) ([])) s.NoBlock (s.Then 11 (s.Set ([]) ([])) s.NoBlock (s.Then 12 (s.Fall ([]) ([])) s.NoBlock s.End)))) s.NoBlock) (s.Then 13 (s.Pose (record { opened = []; facts = ([]); locals = ((name_s, (Of unary.Vi (Number (pos 3)))) ∷ (name_t, (Of unary.Vi (Number (pos 1)))) ∷ (name_d0, (Of unary.Vi (Number (pos 2)))) ∷ []); items = ((Data (Number (pos 64)) (Global name_g) (Of2 binary.Cons (Of unary.Vi (Number (pos 3))) Nil)) ∷ (Data (Number (pos 64)) (Global name_arr) (Of2 binary.Cons (Of unary.Vi (Number (pos 1))) (Of2 binary.Cons (Of unary.Vi (Number (pos 2))) (Of2 binary.Cons (Of unary.Vi (Number (pos 0))) (Of2 binary.Cons (Of unary.Vi (Number (pos 0))) Nil))))) ∷ (Lock (Number (pos 64)) (Global name_l) (record { name = name_iv; args = ([]) })) ∷ []) }) ([]) ([])) (s.WithBlock (s.Then 14 (s.Meet ([]) ([])) s.NoBlock s.End) s.NoBlock) (s.Then 15 (s.Acquire 2 ([])) s.NoBlock (s.Then 16 (s.Unfold 4 ((name_k1 ∷ []) ∷ [])) (s.WithBlock (s.Then 17 (s.Load 4 ([]) ([])) s.NoBlock (s.Then 18 (s.Fold name_iv 0 ([]) ((Named name_k1) ∷ []) ([])) s.NoBlock (s.Then 19 (s.Release 3 4 ([])) s.NoBlock (s.Then 20 (s.Acquire 2 ([])) s.NoBlock (s.Then 21 (s.Have (Rel relation.Eq (Number (pos 5)) (Number (pos 5))) ([])) s.NoBlock (s.Then 22 (s.FreeLock 2 3 ([]) ([])) s.NoBlock (s.Then 23 (s.Return ([]) ([]) ([])) s.NoBlock s.End))))))) s.NoBlock) s.End))))))))))) ≡ (RefusedAt 12 10 4)
unfolding computing
random_947 = refl

random_948 : body_verdict (record { predicates = ((record { name = name_iv; args = ([]); cases = ((record { opened = (sort.Int ∷ []); facts = ((Rel relation.Le (Number (pos 0)) (Var 0 sort.Int)) ∷ (Rel relation.Le (Var 0 sort.Int) (Number (pos 50))) ∷ []); locals = []; items = ((Data (Number (pos 64)) (Global name_x) (Of2 binary.Cons (Of unary.Vi (Var 0 sort.Int)) Nil)) ∷ []) }) ∷ []) }) ∷ []); specs = ((record { is_void = false; name = name_main; params = ([]); vars = []; pre = (record { opened = []; facts = ([]); locals = []; items = ((Data (Number (pos 64)) (Global name_x) (Of2 binary.Cons (Of unary.Vi (Number (pos 3))) Nil)) ∷ (Data (Number (pos 64)) (Global name_g) (Of2 binary.Cons (Of unary.Vi (Number (pos 3))) Nil)) ∷ (Data (Number (pos 64)) (Global name_arr) (Of2 binary.Cons (Of unary.Vi (Number (pos 1))) (Of2 binary.Cons (Of unary.Vi (Number (pos 2))) (Of2 binary.Cons (Of unary.Vi (Number (pos 0))) (Of2 binary.Cons (Of unary.Vi (Number (pos 0))) Nil))))) ∷ (Data (Number (pos 64)) (Global name_l) (Of2 binary.Cons (Of unary.Vi (Number (pos 0))) Nil)) ∷ []) }); post = (record { opened = []; facts = ((Rel relation.Eq (Var 0 sort.Val) (Of unary.Vi (Number (pos 7)))) ∷ []); locals = []; items = ((Data (Number (pos 64)) (Global name_g) (Of2 binary.Cons (Of unary.Vi (Number (pos 3))) Nil)) ∷ (Data (Number (pos 64)) (Global name_arr) (Of2 binary.Cons (Of unary.Vi (Number (pos 1))) (Of2 binary.Cons (Of unary.Vi (Number (pos 2))) (Of2 binary.Cons (Of unary.Vi (Number (pos 0))) (Of2 binary.Cons (Of unary.Vi (Number (pos 0))) Nil))))) ∷ (Pred (record { name = name_iv; args = ([]) })) ∷ (Data (Number (pos 64)) (Global name_l) (Of2 binary.Cons Undef Nil)) ∷ []) }) }) ∷ []) }) (record { is_void = false; name = name_main; params = ([]); vars = []; pre = (record { opened = []; facts = ([]); locals = []; items = ((Data (Number (pos 64)) (Global name_x) (Of2 binary.Cons (Of unary.Vi (Number (pos 3))) Nil)) ∷ (Data (Number (pos 64)) (Global name_g) (Of2 binary.Cons (Of unary.Vi (Number (pos 3))) Nil)) ∷ (Data (Number (pos 64)) (Global name_arr) (Of2 binary.Cons (Of unary.Vi (Number (pos 1))) (Of2 binary.Cons (Of unary.Vi (Number (pos 2))) (Of2 binary.Cons (Of unary.Vi (Number (pos 0))) (Of2 binary.Cons (Of unary.Vi (Number (pos 0))) Nil))))) ∷ (Data (Number (pos 64)) (Global name_l) (Of2 binary.Cons (Of unary.Vi (Number (pos 0))) Nil)) ∷ []) }); post = (record { opened = []; facts = ((Rel relation.Eq (Var 0 sort.Val) (Of unary.Vi (Number (pos 7)))) ∷ []); locals = []; items = ((Data (Number (pos 64)) (Global name_g) (Of2 binary.Cons (Of unary.Vi (Number (pos 3))) Nil)) ∷ (Data (Number (pos 64)) (Global name_arr) (Of2 binary.Cons (Of unary.Vi (Number (pos 1))) (Of2 binary.Cons (Of unary.Vi (Number (pos 2))) (Of2 binary.Cons (Of unary.Vi (Number (pos 0))) (Of2 binary.Cons (Of unary.Vi (Number (pos 0))) Nil))))) ∷ (Pred (record { name = name_iv; args = ([]) })) ∷ (Data (Number (pos 64)) (Global name_l) (Of2 binary.Cons Undef Nil)) ∷ []) }) }) (record { temps = (name_s ∷ name_t ∷ name_i ∷ name_x1 ∷ name_d0 ∷ name_p1 ∷ name_q1 ∷ []); body = (c.Then (c.Set 0 (c.Const 2)) (c.Then (c.OnLock lock.Make (c.Address (root.Global name_l 1) c.Here)) (c.Then (c.OnLock lock.Release (c.Address (root.Global name_l 1) c.Here)) (c.Then (c.Load 0 (root.Global name_arr 4) (c.Index kind.Signed (c.Const 1) c.Here)) (c.Then (c.Load 1 (root.Global name_arr 4) (c.Index kind.Signed (c.Const 0) c.Here)) (c.Then (c.Set 0 (c.Const 1)) (c.Then (c.Set 4 (c.Binary two.Add kind.Signed (c.Const 1) (c.Const 1))) (c.Then (c.Set 4 (c.Const 2)) (c.Then (c.Set 0 (c.Binary two.Add kind.Signed (c.Temp 4) (c.Const 1))) (c.Then (c.OnLock lock.Acquire (c.Address (root.Global name_l 1) c.Here)) (c.Then (c.Load 1 (root.Global name_x 1) c.Here) (c.Then (c.OnLock lock.Release (c.Address (root.Global name_l 1) c.Here)) (c.Then (c.OnLock lock.Acquire (c.Address (root.Global name_l 1) c.Here)) (c.Then (c.OnLock lock.Free (c.Address (root.Global name_l 1) c.Here)) (c.Then (c.Return (Some (c.Const 7))) c.End))))))))))))))) }) (s.Then 1 (s.Set ([]) ([])) s.NoBlock (s.Then 2 (s.MakeLock 3 (record { name = name_iv; args = ([]) }) ([]) ([])) s.NoBlock (s.Then 3 (s.Fold name_iv 0 ([]) ((Number (pos 3)) ∷ []) ([])) s.NoBlock (s.Then 4 (s.Release 3 4 ([])) s.NoBlock (s.Then 5 (s.Load 1 ([]) ([])) s.NoBlock (s.Then 6 (s.Load 1 ([]) ([])) s.NoBlock (s.Then 7 (s.Set ([]) ([])) s.NoBlock (s.Then 8 (s.Block 3 (record { opened = []; facts = ([]); locals = ((name_s, (Of unary.Vi (Number (pos 3)))) ∷ (name_t, (Of unary.Vi (Number (pos 1)))) ∷ (name_d0, (Of unary.Vi (Number (pos 2)))) ∷ []); items = ((Data (Number (pos 64)) (Global name_g) (Of2 binary.Cons (Of unary.Vi (Number (pos 3))) Nil)) ∷ (Data (Number (pos 64)) (Global name_arr) (Of2 binary.Cons (Of unary.Vi (Number (pos 1))) (Of2 binary.Cons (Of unary.Vi (Number (pos 2))) (Of2 binary.Cons (Of unary.Vi (Number (pos 0))) (Of2 binary.Cons (Of unary.Vi (Number (pos 0))) Nil))))) ∷ (Lock (Number (pos 64)) (Global name_l) (record { name = name_iv; args = ([]) })) ∷ []) }) ([]) ([])) (s.WithBlock (s.Then 9 (s.Set ([]) ([])) s.NoBlock (s.Then 10 (s.Set ([]) ([])) s.NoBlock (s.Then 11 (s.Set ([]) ([])) s.NoBlock (s.Then 12 (s.Fall ([]) ([])) s.NoBlock s.End)))) s.NoBlock) (s.Then 13 (s.Pose (record { opened = []; facts = ([]); locals = ((name_s, (Of unary.Vi (Number (pos 3)))) ∷ (name_t, (Of unary.Vi (Number (pos 1)))) ∷ (name_d0, (Of unary.Vi (Number (pos 2)))) ∷ []); items = ((Data (Number (pos 64)) (Global name_g) (Of2 binary.Cons (Of unary.Vi (Number (pos 3))) Nil)) ∷ (Data (Number (pos 64)) (Global name_arr) (Of2 binary.Cons (Of unary.Vi (Number (pos 1))) (Of2 binary.Cons (Of unary.Vi (Number (pos 2))) (Of2 binary.Cons (Of unary.Vi (Number (pos 0))) (Of2 binary.Cons (Of unary.Vi (Number (pos 0))) Nil))))) ∷ (Lock (Number (pos 64)) (Global name_l) (record { name = name_iv; args = ([]) })) ∷ []) }) ([]) ([])) (s.WithBlock (s.Then 14 (s.Meet ([]) ([])) s.NoBlock (s.Then 15 (s.Meet ([]) ([])) s.NoBlock s.End)) s.NoBlock) (s.Then 16 (s.Acquire 2 ([])) s.NoBlock (s.Then 17 (s.Unfold 4 ((name_k1 ∷ []) ∷ [])) (s.WithBlock (s.Then 18 (s.Load 4 ([]) ([])) s.NoBlock (s.Then 19 (s.Fold name_iv 0 ([]) ((Named name_k1) ∷ []) ([])) s.NoBlock (s.Then 20 (s.Release 3 4 ([])) s.NoBlock (s.Then 21 (s.Acquire 2 ([])) s.NoBlock (s.Then 22 (s.Have (Rel relation.Eq (Number (pos 5)) (Number (pos 5))) ([])) s.NoBlock (s.Then 23 (s.FreeLock 2 3 ([]) ([])) s.NoBlock (s.Then 24 (s.Return ([]) ([]) ([])) s.NoBlock s.End))))))) s.NoBlock) s.End))))))))))) ≡ (RefusedAt 15 0 11)
unfolding computing
random_948 = refl

random_949 : body_verdict (record { predicates = ([]); specs = ((record { is_void = false; name = name_f; params = (name_n0 ∷ []); vars = ((name_a0, sort.Int) ∷ []); pre = (record { opened = []; facts = ((Rel relation.Le (Number (pos 0)) (Var 0 sort.Int)) ∷ (Rel relation.Le (Var 0 sort.Int) (Number (pos 9))) ∷ []); locals = ((name_n0, (Of unary.Vi (Var 0 sort.Int))) ∷ []); items = ([]) }); post = (record { opened = []; facts = ([]); locals = []; items = ([]) }) }) ∷ (record { is_void = false; name = name_main; params = ([]); vars = []; pre = (record { opened = []; facts = ([]); locals = []; items = ([]) }); post = (record { opened = []; facts = ((Rel relation.Eq (Var 0 sort.Val) (Of unary.Vi (Number (pos 0)))) ∷ []); locals = []; items = ([]) }) }) ∷ []) }) (record { is_void = false; name = name_f; params = (name_n0 ∷ []); vars = ((name_a0, sort.Int) ∷ []); pre = (record { opened = []; facts = ((Rel relation.Le (Number (pos 0)) (Var 0 sort.Int)) ∷ (Rel relation.Le (Var 0 sort.Int) (Number (pos 9))) ∷ []); locals = ((name_n0, (Of unary.Vi (Var 0 sort.Int))) ∷ []); items = ([]) }); post = (record { opened = []; facts = ([]); locals = []; items = ([]) }) }) (record { temps = (name_n0 ∷ name_s ∷ name_t ∷ name_i ∷ name_x1 ∷ name_d0 ∷ name_p1 ∷ name_q1 ∷ []); body = (c.Then (c.Set 2 (c.Const 3)) (c.Then (c.Set 1 (c.Binary two.Add kind.Signed (c.Const 1) (c.Const 2))) (c.Then c.Skip (c.Then (c.Malloc 6 3) (c.Then (c.If (c.Pointers (c.Temp 6) (c.Const 0) true) (c.Then (c.Return (Some (c.Const 0))) c.End) c.End) (c.Then (c.Store (root.Temp 6) (c.Offset 0 c.Here) (c.Const 0)) (c.Then (c.Load 2 (root.Temp 6) (c.Offset 0 c.Here)) (c.Then (c.Free (c.Temp 6)) (c.Then (c.Return (Some (c.Const 7))) c.End))))))))) }) (s.Then 1 (s.Set ([]) ([])) s.NoBlock (s.Then 2 (s.Set ([]) ([])) s.NoBlock (s.Then 3 s.Skip s.NoBlock (s.Then 4 (s.Malloc name_k1 ([]) ([])) (s.WithBlock (s.Then 5 (s.If ([]) ([]) ([]) ([])) (s.WithBlock (s.Then 6 (s.Return ([]) ([]) ([])) s.NoBlock s.End) (s.WithBlock (s.Then 7 (s.Absurd ([])) s.NoBlock s.End) s.NoBlock)) s.End) (s.WithBlock (s.Then 8 (s.If (0 ∷ []) ([]) ([]) ([])) (s.WithBlock (s.Then 9 (s.Subst name_k1) s.NoBlock (s.Then 10 (s.Absurd ([])) s.NoBlock s.End)) (s.WithBlock (s.Then 11 (s.Store 0 ([]) ([])) s.NoBlock (s.Then 12 (s.Load 0 ([]) ([])) s.NoBlock (s.Then 13 (s.Free 0 1 ([])) s.NoBlock (s.Then 14 (s.Return ([]) ([]) ([])) s.NoBlock s.End)))) s.NoBlock)) s.End) s.NoBlock)) s.End)))) ≡ Accepted
unfolding computing
random_949 = refl

random_950 : body_verdict (record { predicates = ([]); specs = ((record { is_void = false; name = name_f; params = (name_n0 ∷ []); vars = ((name_a0, sort.Int) ∷ []); pre = (record { opened = []; facts = ((Rel relation.Le (Number (pos 0)) (Var 0 sort.Int)) ∷ (Rel relation.Le (Var 0 sort.Int) (Number (pos 9))) ∷ []); locals = ((name_n0, (Of unary.Vi (Var 0 sort.Int))) ∷ []); items = ([]) }); post = (record { opened = []; facts = ([]); locals = []; items = ([]) }) }) ∷ (record { is_void = false; name = name_main; params = ([]); vars = []; pre = (record { opened = []; facts = ([]); locals = []; items = ([]) }); post = (record { opened = []; facts = ((Rel relation.Eq (Var 0 sort.Val) (Of unary.Vi (Number (pos 0)))) ∷ []); locals = []; items = ([]) }) }) ∷ []) }) (record { is_void = false; name = name_main; params = ([]); vars = []; pre = (record { opened = []; facts = ([]); locals = []; items = ([]) }); post = (record { opened = []; facts = ((Rel relation.Eq (Var 0 sort.Val) (Of unary.Vi (Number (pos 0)))) ∷ []); locals = []; items = ([]) }) }) (record { temps = ([]); body = (c.Then (c.Return (Some (c.Const 0))) c.End) }) (s.Then 1 (s.Return ([]) ([]) ([])) s.NoBlock s.End) ≡ Accepted
unfolding computing
random_950 = refl

random_951 : body_verdict (record { predicates = ([]); specs = ((record { is_void = false; name = name_f; params = (name_n0 ∷ []); vars = ((name_a0, sort.Int) ∷ []); pre = (record { opened = []; facts = ((Rel relation.Le (Number (pos 32)) (Var 0 sort.Int)) ∷ (Rel relation.Le (Var 0 sort.Int) (Number (pos 9))) ∷ []); locals = ((name_n0, (Of unary.Vi (Var 0 sort.Int))) ∷ []); items = ([]) }); post = (record { opened = []; facts = ([]); locals = []; items = ([]) }) }) ∷ (record { is_void = false; name = name_main; params = ([]); vars = []; pre = (record { opened = []; facts = ([]); locals = []; items = ([]) }); post = (record { opened = []; facts = ((Rel relation.Eq (Var 0 sort.Val) (Of unary.Vi (Number (pos 0)))) ∷ []); locals = []; items = ([]) }) }) ∷ []) }) (record { is_void = false; name = name_f; params = (name_n0 ∷ []); vars = ((name_a0, sort.Int) ∷ []); pre = (record { opened = []; facts = ((Rel relation.Le (Number (pos 32)) (Var 0 sort.Int)) ∷ (Rel relation.Le (Var 0 sort.Int) (Number (pos 9))) ∷ []); locals = ((name_n0, (Of unary.Vi (Var 0 sort.Int))) ∷ []); items = ([]) }); post = (record { opened = []; facts = ([]); locals = []; items = ([]) }) }) (record { temps = (name_n0 ∷ name_s ∷ name_t ∷ name_i ∷ name_x1 ∷ name_d0 ∷ name_p1 ∷ name_q1 ∷ []); body = (c.Then (c.Set 2 (c.Const 3)) (c.Then (c.Set 1 (c.Binary two.Add kind.Signed (c.Const 1) (c.Const 2))) (c.Then c.Skip (c.Then (c.Malloc 6 3) (c.Then (c.If (c.Pointers (c.Temp 6) (c.Const 0) true) (c.Then (c.Return (Some (c.Const 0))) c.End) c.End) (c.Then (c.Store (root.Temp 6) (c.Offset 0 c.Here) (c.Const 0)) (c.Then (c.Load 2 (root.Temp 6) (c.Offset 0 c.Here)) (c.Then (c.Free (c.Temp 6)) (c.Then (c.Return (Some (c.Const 7))) c.End))))))))) }) (s.Then 1 (s.Set ([]) ([])) s.NoBlock (s.Then 2 (s.Set ([]) ([])) s.NoBlock (s.Then 3 s.Skip s.NoBlock (s.Then 4 (s.Malloc name_k1 ([]) ([])) (s.WithBlock (s.Then 5 (s.If ([]) ([]) ([]) ([])) (s.WithBlock (s.Then 6 (s.Return ([]) ([]) ([])) s.NoBlock s.End) (s.WithBlock (s.Then 7 (s.Absurd ([])) s.NoBlock s.End) s.NoBlock)) s.End) (s.WithBlock (s.Then 8 (s.If (0 ∷ []) ([]) ([]) ([])) (s.WithBlock (s.Then 9 (s.Subst name_k1) s.NoBlock (s.Then 10 (s.Absurd ([])) s.NoBlock s.End)) (s.WithBlock (s.Then 11 (s.Store 0 ([]) ([])) s.NoBlock (s.Then 12 (s.Load 0 ([]) ([])) s.NoBlock (s.Then 13 (s.Free 0 1 ([])) s.NoBlock (s.Then 14 (s.Return ([]) ([]) ([])) s.NoBlock s.End)))) s.NoBlock)) s.End) s.NoBlock)) s.End)))) ≡ Accepted
unfolding computing
random_951 = refl

random_952 : body_verdict (record { predicates = ([]); specs = ((record { is_void = false; name = name_f; params = (name_n0 ∷ []); vars = ((name_a0, sort.Int) ∷ []); pre = (record { opened = []; facts = ((Rel relation.Le (Number (pos 32)) (Var 0 sort.Int)) ∷ (Rel relation.Le (Var 0 sort.Int) (Number (pos 9))) ∷ []); locals = ((name_n0, (Of unary.Vi (Var 0 sort.Int))) ∷ []); items = ([]) }); post = (record { opened = []; facts = ([]); locals = []; items = ([]) }) }) ∷ (record { is_void = false; name = name_main; params = ([]); vars = []; pre = (record { opened = []; facts = ([]); locals = []; items = ([]) }); post = (record { opened = []; facts = ((Rel relation.Eq (Var 0 sort.Val) (Of unary.Vi (Number (pos 0)))) ∷ []); locals = []; items = ([]) }) }) ∷ []) }) (record { is_void = false; name = name_main; params = ([]); vars = []; pre = (record { opened = []; facts = ([]); locals = []; items = ([]) }); post = (record { opened = []; facts = ((Rel relation.Eq (Var 0 sort.Val) (Of unary.Vi (Number (pos 0)))) ∷ []); locals = []; items = ([]) }) }) (record { temps = ([]); body = (c.Then (c.Return (Some (c.Const 0))) c.End) }) (s.Then 1 (s.Return ([]) ([]) ([])) s.NoBlock s.End) ≡ Accepted
unfolding computing
random_952 = refl

random_953 : body_verdict (record { predicates = ([]); specs = ((record { is_void = false; name = name_f; params = (name_n0 ∷ []); vars = ((name_a0, sort.Int) ∷ []); pre = (record { opened = []; facts = ((Rel relation.Le (Number (pos 0)) (Var 0 sort.Int)) ∷ (Rel relation.Le (Var 0 sort.Int) (Number (pos 9))) ∷ []); locals = ((name_n0, (Of unary.Vi (Var 0 sort.Int))) ∷ []); items = ([]) }); post = (record { opened = []; facts = ([]); locals = []; items = ([]) }) }) ∷ (record { is_void = false; name = name_main; params = ([]); vars = []; pre = (record { opened = []; facts = ([]); locals = []; items = ([]) }); post = (record { opened = []; facts = ((Rel relation.Eq (Var 0 sort.Val) (Of unary.Vi (Number (pos 0)))) ∷ []); locals = []; items = ([]) }) }) ∷ []) }) (record { is_void = false; name = name_main; params = ([]); vars = []; pre = (record { opened = []; facts = ([]); locals = []; items = ([]) }); post = (record { opened = []; facts = ((Rel relation.Eq (Var 0 sort.Val) (Of unary.Vi (Number (pos 0)))) ∷ []); locals = []; items = ([]) }) }) (record { temps = ([]); body = (c.Then (c.Return (Some (c.Const 32))) c.End) }) (s.Then 1 (s.Return ([]) ([]) ([])) s.NoBlock s.End) ≡ (RefusedAt 1 9 3)
unfolding computing
random_953 = refl

random_954 : body_verdict (record { predicates = ([]); specs = ((record { is_void = false; name = name_f; params = (name_n0 ∷ []); vars = ((name_a0, sort.Int) ∷ []); pre = (record { opened = []; facts = ((Rel relation.Le (Number (pos 0)) (Var 0 sort.Int)) ∷ (Rel relation.Le (Var 0 sort.Int) (Number (pos 9))) ∷ []); locals = ((name_n0, (Of unary.Vi (Var 0 sort.Int))) ∷ []); items = ([]) }); post = (record { opened = []; facts = ([]); locals = []; items = ([]) }) }) ∷ (record { is_void = false; name = name_main; params = ([]); vars = []; pre = (record { opened = []; facts = ([]); locals = []; items = ([]) }); post = (record { opened = []; facts = ((Rel relation.Eq (Var 0 sort.Val) (Of unary.Vi (Number (pos 0)))) ∷ []); locals = []; items = ([]) }) }) ∷ []) }) (record { is_void = false; name = name_f; params = (name_n0 ∷ []); vars = ((name_a0, sort.Int) ∷ []); pre = (record { opened = []; facts = ((Rel relation.Le (Number (pos 0)) (Var 0 sort.Int)) ∷ (Rel relation.Le (Var 0 sort.Int) (Number (pos 9))) ∷ []); locals = ((name_n0, (Of unary.Vi (Var 0 sort.Int))) ∷ []); items = ([]) }); post = (record { opened = []; facts = ([]); locals = []; items = ([]) }) }) (record { temps = (name_n0 ∷ name_s ∷ name_t ∷ name_i ∷ name_x1 ∷ name_d0 ∷ name_p1 ∷ name_q1 ∷ []); body = (c.Then (c.Set 2 (c.Const 3)) (c.Then (c.Set 1 (c.Binary two.Add kind.Signed (c.Const 1) (c.Const 2))) (c.Then c.Skip (c.Then (c.Malloc 6 3) (c.Then (c.If (c.Pointers (c.Temp 6) (c.Const 0) true) (c.Then (c.Return (Some (c.Const 0))) c.End) c.End) (c.Then (c.Store (root.Temp 6) (c.Offset 0 c.Here) (c.Const 0)) (c.Then (c.Load 2 (root.Temp 6) (c.Offset 0 c.Here)) (c.Then (c.Free (c.Temp 6)) (c.Then (c.Return (Some (c.Const 7))) c.End))))))))) }) (s.Then 1 (s.Set ([]) ([])) s.NoBlock (s.Then 2 (s.Set ([]) ([])) s.NoBlock (s.Then 3 s.Skip s.NoBlock (s.Then 4 (s.Malloc name_k1 ([]) ([])) (s.WithBlock (s.Then 5 (s.If ([]) ([]) ([]) ([])) (s.WithBlock (s.Then 6 (s.Return ([]) ([]) ([])) s.NoBlock s.End) (s.WithBlock s.End s.NoBlock)) s.End) (s.WithBlock (s.Then 7 (s.If (0 ∷ []) ([]) ([]) ([])) (s.WithBlock (s.Then 8 (s.Subst name_k1) s.NoBlock (s.Then 9 (s.Absurd ([])) s.NoBlock s.End)) (s.WithBlock (s.Then 10 (s.Store 0 ([]) ([])) s.NoBlock (s.Then 11 (s.Load 0 ([]) ([])) s.NoBlock (s.Then 12 (s.Free 0 1 ([])) s.NoBlock (s.Then 13 (s.Return ([]) ([]) ([])) s.NoBlock s.End)))) s.NoBlock)) s.End) s.NoBlock)) s.End)))) ≡ (RefusedAt 7 0 10)
unfolding computing
random_954 = refl

random_955 : body_verdict (record { predicates = ([]); specs = ((record { is_void = false; name = name_f; params = (name_n0 ∷ []); vars = ((name_a0, sort.Int) ∷ []); pre = (record { opened = []; facts = ((Rel relation.Le (Number (pos 0)) (Var 0 sort.Int)) ∷ (Rel relation.Le (Var 0 sort.Int) (Number (pos 9))) ∷ []); locals = ((name_n0, (Of unary.Vi (Var 0 sort.Int))) ∷ []); items = ([]) }); post = (record { opened = []; facts = ([]); locals = []; items = ([]) }) }) ∷ (record { is_void = false; name = name_main; params = ([]); vars = []; pre = (record { opened = []; facts = ([]); locals = []; items = ([]) }); post = (record { opened = []; facts = ((Rel relation.Eq (Var 0 sort.Val) (Of unary.Vi (Number (pos 0)))) ∷ []); locals = []; items = ([]) }) }) ∷ []) }) (record { is_void = false; name = name_f; params = (name_n0 ∷ []); vars = ((name_a0, sort.Int) ∷ []); pre = (record { opened = []; facts = ((Rel relation.Le (Number (pos 0)) (Var 0 sort.Int)) ∷ (Rel relation.Le (Var 0 sort.Int) (Number (pos 9))) ∷ []); locals = ((name_n0, (Of unary.Vi (Var 0 sort.Int))) ∷ []); items = ([]) }); post = (record { opened = []; facts = ([]); locals = []; items = ([]) }) }) (record { temps = (name_n0 ∷ name_s ∷ name_t ∷ name_i ∷ name_x1 ∷ name_d0 ∷ name_p1 ∷ name_q1 ∷ []); body = (c.Then (c.Set 2 (c.Const 3)) (c.Then (c.Set 1 (c.Binary two.Add kind.Signed (c.Const 1) (c.Const 2))) (c.Then c.Skip (c.Then (c.Malloc 6 3) (c.Then (c.If (c.Pointers (c.Temp 6) (c.Const 0) true) (c.Then (c.Return (Some (c.Const 0))) c.End) c.End) (c.Then (c.Store (root.Temp 6) (c.Offset 0 c.Here) (c.Const 0)) (c.Then (c.Load 2 (root.Temp 6) (c.Offset 0 c.Here)) (c.Then (c.Free (c.Temp 6)) (c.Then (c.Return (Some (c.Const 7))) c.End))))))))) }) (s.Then 1 (s.Set ([]) ([])) s.NoBlock (s.Then 2 (s.Set ([]) ([])) s.NoBlock (s.Then 3 (s.Set ([]) ([])) s.NoBlock (s.Then 4 s.Skip s.NoBlock (s.Then 5 (s.Malloc name_k1 ([]) ([])) (s.WithBlock (s.Then 6 (s.If ([]) ([]) ([]) ([])) (s.WithBlock (s.Then 7 (s.Return ([]) ([]) ([])) s.NoBlock s.End) (s.WithBlock (s.Then 8 (s.Absurd ([])) s.NoBlock s.End) s.NoBlock)) s.End) (s.WithBlock (s.Then 9 (s.If (0 ∷ []) ([]) ([]) ([])) (s.WithBlock (s.Then 10 (s.Subst name_k1) s.NoBlock (s.Then 11 (s.Absurd ([])) s.NoBlock s.End)) (s.WithBlock (s.Then 12 (s.Store 0 ([]) ([])) s.NoBlock (s.Then 13 (s.Load 0 ([]) ([])) s.NoBlock (s.Then 14 (s.Free 0 1 ([])) s.NoBlock (s.Then 15 (s.Return ([]) ([]) ([])) s.NoBlock s.End)))) s.NoBlock)) s.End) s.NoBlock)) s.End))))) ≡ (RefusedAt 3 2 1)
unfolding computing
random_955 = refl

random_956 : body_verdict (record { predicates = ([]); specs = ((record { is_void = false; name = name_f; params = (name_n0 ∷ []); vars = ((name_a0, sort.Int) ∷ []); pre = (record { opened = []; facts = ((Rel relation.Le (Number (pos 0)) (Var 0 sort.Int)) ∷ (Rel relation.Le (Var 0 sort.Int) (Number (pos 9))) ∷ []); locals = ((name_n0, (Of unary.Vi (Var 0 sort.Int))) ∷ []); items = ([]) }); post = (record { opened = []; facts = ([]); locals = []; items = ([]) }) }) ∷ (record { is_void = false; name = name_main; params = ([]); vars = []; pre = (record { opened = []; facts = ([]); locals = []; items = ([]) }); post = (record { opened = []; facts = ((Rel relation.Eq (Var 0 sort.Val) (Of unary.Vi (Number (pos 0)))) ∷ []); locals = []; items = ([]) }) }) ∷ []) }) (record { is_void = false; name = name_f; params = (name_n0 ∷ []); vars = ((name_a0, sort.Int) ∷ []); pre = (record { opened = []; facts = ((Rel relation.Le (Number (pos 0)) (Var 0 sort.Int)) ∷ (Rel relation.Le (Var 0 sort.Int) (Number (pos 9))) ∷ []); locals = ((name_n0, (Of unary.Vi (Var 0 sort.Int))) ∷ []); items = ([]) }); post = (record { opened = []; facts = ([]); locals = []; items = ([]) }) }) (record { temps = (name_n0 ∷ name_s ∷ name_t ∷ name_i ∷ name_x1 ∷ name_d0 ∷ name_p1 ∷ name_q1 ∷ []); body = (c.Then (c.Set 2 (c.Const 3)) (c.Then (c.Set 1 (c.Binary two.Add kind.Signed (c.Const 1) (c.Const 2))) (c.Then c.Skip (c.Then (c.Malloc 6 3) (c.Then (c.If (c.Pointers (c.Temp 6) (c.Const 0) true) (c.Then (c.Return (Some (c.Const 0))) c.End) c.End) (c.Then (c.Store (root.Temp 6) (c.Offset 0 c.Here) (c.Const 0)) (c.Then (c.Load 2 (root.Temp 6) (c.Offset 0 c.Here)) (c.Then (c.Free (c.Temp 6)) (c.Then (c.Return (Some (c.Const 7))) c.End))))))))) }) (s.Then 1 (s.Set ([]) ([])) s.NoBlock (s.Then 2 (s.Set ([]) ([])) s.NoBlock (s.Then 3 s.Skip s.NoBlock (s.Then 4 (s.Law name_ptr_null ((Of unary.Vi (Number (pos 0))) ∷ []) ([])) s.NoBlock s.End)))) ≡ (RefusedAt 4 26 3)
unfolding computing
random_956 = refl

random_957 : body_verdict (record { predicates = ([]); specs = ((record { is_void = false; name = name_f; params = (name_n0 ∷ []); vars = ((name_a0, sort.Int) ∷ []); pre = (record { opened = []; facts = ((Rel relation.Le (Number (pos 0)) (Var 0 sort.Int)) ∷ (Rel relation.Le (Var 0 sort.Int) (Number (pos 9))) ∷ []); locals = ((name_n0, (Of unary.Vi (Var 0 sort.Int))) ∷ []); items = ([]) }); post = (record { opened = []; facts = ([]); locals = []; items = ([]) }) }) ∷ (record { is_void = false; name = name_main; params = ([]); vars = []; pre = (record { opened = []; facts = ([]); locals = []; items = ([]) }); post = (record { opened = []; facts = ((Rel relation.Eq (Var 0 sort.Val) (Of unary.Vi (Number (pos 0)))) ∷ []); locals = []; items = ([]) }) }) ∷ []) }) (record { is_void = false; name = name_f; params = (name_n0 ∷ []); vars = ((name_a0, sort.Int) ∷ []); pre = (record { opened = []; facts = ((Rel relation.Le (Number (pos 0)) (Var 0 sort.Int)) ∷ (Rel relation.Le (Var 0 sort.Int) (Number (pos 9))) ∷ []); locals = ((name_n0, (Of unary.Vi (Var 0 sort.Int))) ∷ []); items = ([]) }); post = (record { opened = []; facts = ([]); locals = []; items = ([]) }) }) (record { temps = (name_n0 ∷ name_s ∷ name_t ∷ name_i ∷ name_x1 ∷ name_d0 ∷ name_p1 ∷ name_q1 ∷ []); body = (c.Then (c.Set 2 (c.Const 3)) (c.Then (c.Set 1 (c.Binary two.Add kind.Signed (c.Const 1) (c.Const 2))) (c.Then c.Skip (c.Then (c.Malloc 6 3) (c.Then (c.If (c.Pointers (c.Temp 6) (c.Const 0) true) (c.Then (c.Return (Some (c.Const 0))) c.End) c.End) (c.Then (c.Store (root.Temp 6) (c.Offset 0 c.Here) (c.Const 0)) (c.Then (c.Load 2 (root.Temp 6) (c.Offset 0 c.Here)) (c.Then (c.Free (c.Temp 6)) (c.Then (c.Return (Some (c.Const 7))) c.End))))))))) }) (s.Then 1 (s.Set ([]) ([])) s.NoBlock (s.Then 2 (s.Set ([]) ([])) s.NoBlock (s.Then 3 s.Skip s.NoBlock (s.Then 4 (s.Malloc name_k1 ([]) ([])) (s.WithBlock (s.Then 5 (s.If ([]) ([]) ([]) ([])) (s.WithBlock (s.Then 6 (s.Return ([]) ([]) ([])) s.NoBlock s.End) (s.WithBlock (s.Then 7 (s.Absurd ([])) s.NoBlock s.End) s.NoBlock)) s.End) (s.WithBlock (s.Then 8 (s.If (0 ∷ []) ([]) ([]) ([])) (s.WithBlock (s.Then 9 (s.Absurd ([])) s.NoBlock s.End) (s.WithBlock (s.Then 10 (s.Store 0 ([]) ([])) s.NoBlock (s.Then 11 (s.Load 0 ([]) ([])) s.NoBlock (s.Then 12 (s.Free 0 1 ([])) s.NoBlock (s.Then 13 (s.Return ([]) ([]) ([])) s.NoBlock s.End)))) s.NoBlock)) s.End) s.NoBlock)) s.End)))) ≡ (RefusedAt 9 24 3)
unfolding computing
random_957 = refl

random_958 : body_verdict (record { predicates = ([]); specs = ((record { is_void = false; name = name_f; params = (name_n0 ∷ []); vars = ((name_a0, sort.Int) ∷ []); pre = (record { opened = []; facts = ((Rel relation.Le (Number (pos 0)) (Var 0 sort.Int)) ∷ (Rel relation.Le (Var 0 sort.Int) (Number (pos 9))) ∷ []); locals = ((name_n0, (Of unary.Vi (Var 0 sort.Int))) ∷ []); items = ([]) }); post = (record { opened = []; facts = ([]); locals = []; items = ([]) }) }) ∷ (record { is_void = false; name = name_main; params = ([]); vars = []; pre = (record { opened = []; facts = ([]); locals = []; items = ([]) }); post = (record { opened = []; facts = ((Rel relation.Eq (Var 0 sort.Val) (Of unary.Vi (Number (pos 0)))) ∷ []); locals = []; items = ([]) }) }) ∷ []) }) (record { is_void = false; name = name_f; params = (name_n0 ∷ []); vars = ((name_a0, sort.Int) ∷ []); pre = (record { opened = []; facts = ((Rel relation.Le (Number (pos 0)) (Var 0 sort.Int)) ∷ (Rel relation.Le (Var 0 sort.Int) (Number (pos 9))) ∷ []); locals = ((name_n0, (Of unary.Vi (Var 0 sort.Int))) ∷ []); items = ([]) }); post = (record { opened = []; facts = ([]); locals = []; items = ([]) }) }) (record { temps = (name_n0 ∷ name_s ∷ name_t ∷ name_i ∷ name_x1 ∷ name_d0 ∷ name_p1 ∷ name_q1 ∷ []); body = (c.Then (c.Set 2 (c.Const 3)) (c.Then (c.Set 1 (c.Binary two.Add kind.Signed (c.Const 1) (c.Const 2))) (c.Then c.Skip (c.Then (c.Malloc 6 3) (c.Then (c.If (c.Pointers (c.Temp 6) (c.Const 0) true) (c.Then (c.Return (Some (c.Const 0))) c.End) c.End) (c.Then (c.Store (root.Temp 6) (c.Offset 0 c.Here) (c.Const 0)) (c.Then (c.Load 2 (root.Temp 6) (c.Offset 0 c.Here)) (c.Then (c.Free (c.Temp 6)) (c.Then (c.Return (Some (c.Const 7))) c.End))))))))) }) (s.Then 1 (s.Set ([]) ([])) s.NoBlock (s.Then 2 (s.Set ([]) ([])) s.NoBlock (s.Then 3 (s.Absurd ([])) s.NoBlock (s.Then 4 (s.Malloc name_k1 ([]) ([])) (s.WithBlock (s.Then 5 (s.If ([]) ([]) ([]) ([])) (s.WithBlock (s.Then 6 (s.Return ([]) ([]) ([])) s.NoBlock s.End) (s.WithBlock (s.Then 7 s.Skip s.NoBlock s.End) s.NoBlock)) s.End) (s.WithBlock (s.Then 8 (s.If (0 ∷ []) ([]) ([]) ([])) (s.WithBlock (s.Then 9 (s.Subst name_k1) s.NoBlock (s.Then 10 (s.Absurd ([])) s.NoBlock s.End)) (s.WithBlock (s.Then 11 (s.Store 0 ([]) ([])) s.NoBlock (s.Then 12 (s.Load 0 ([]) ([])) s.NoBlock (s.Then 13 (s.Free 0 1 ([])) s.NoBlock (s.Then 14 (s.Return ([]) ([]) ([])) s.NoBlock s.End)))) s.NoBlock)) s.End) s.NoBlock)) s.End)))) ≡ (RefusedAt 3 24 3)
unfolding computing
random_958 = refl

random_959 : body_verdict (record { predicates = ([]); specs = ((record { is_void = false; name = name_f; params = (name_n0 ∷ []); vars = ((name_a0, sort.Int) ∷ []); pre = (record { opened = []; facts = ((Rel relation.Le (Number (pos 0)) (Var 0 sort.Int)) ∷ (Rel relation.Le (Var 0 sort.Int) (Number (pos 9))) ∷ []); locals = ((name_n0, (Of unary.Vi (Var 0 sort.Int))) ∷ []); items = ([]) }); post = (record { opened = []; facts = ([]); locals = []; items = ([]) }) }) ∷ (record { is_void = false; name = name_main; params = ([]); vars = []; pre = (record { opened = []; facts = ([]); locals = []; items = ([]) }); post = (record { opened = []; facts = ((Rel relation.Eq (Var 0 sort.Val) (Of unary.Vi (Number (pos 0)))) ∷ []); locals = []; items = ([]) }) }) ∷ []) }) (record { is_void = false; name = name_f; params = (name_n0 ∷ []); vars = ((name_a0, sort.Int) ∷ []); pre = (record { opened = []; facts = ((Rel relation.Le (Number (pos 0)) (Var 0 sort.Int)) ∷ (Rel relation.Le (Var 0 sort.Int) (Number (pos 9))) ∷ []); locals = ((name_n0, (Of unary.Vi (Var 0 sort.Int))) ∷ []); items = ([]) }); post = (record { opened = []; facts = ([]); locals = []; items = ([]) }) }) (record { temps = (name_n0 ∷ name_s ∷ name_t ∷ name_i ∷ name_x1 ∷ name_d0 ∷ name_p1 ∷ name_q1 ∷ []); body = (c.Then (c.Set 2 (c.Const 3)) (c.Then (c.Set 1 (c.Binary two.Add kind.Signed (c.Const 1) (c.Const 2))) (c.Then c.Skip (c.Then (c.Malloc 6 3) (c.Then (c.If (c.Pointers (c.Temp 6) (c.Const 0) true) (c.Then (c.Return (Some (c.Const 0))) c.End) c.End) (c.Then (c.Store (root.Temp 6) (c.Offset 0 c.Here) (c.Const 0)) (c.Then (c.Load 2 (root.Temp 6) (c.Offset 0 c.Here)) (c.Then (c.Free (c.Temp 6)) (c.Then (c.Return (Some (c.Const 7))) c.End))))))))) }) (s.Then 1 (s.Set ([]) ([])) s.NoBlock (s.Then 2 (s.Set ([]) ([])) s.NoBlock (s.Then 3 s.Skip s.NoBlock (s.Then 4 (s.Malloc name_k1 ([]) ([])) (s.WithBlock (s.Then 5 (s.If ([]) ([]) ([]) ([])) (s.WithBlock (s.Then 6 (s.Naming name_zz (Number (pos 1))) s.NoBlock (s.Then 7 (s.Return ([]) ([]) ([])) s.NoBlock s.End)) (s.WithBlock (s.Then 8 (s.Absurd ([])) s.NoBlock s.End) s.NoBlock)) s.End) (s.WithBlock (s.Then 9 (s.If (5 ∷ []) ([]) ([]) ([])) (s.WithBlock (s.Then 10 (s.Subst name_k1) s.NoBlock (s.Then 11 (s.Absurd ([])) s.NoBlock s.End)) (s.WithBlock (s.Then 12 (s.Store 0 ([]) ([])) s.NoBlock (s.Then 13 (s.Load 0 ([]) ([])) s.NoBlock (s.Then 14 (s.Free 0 1 ([])) s.NoBlock (s.Then 15 (s.Return ([]) ([]) ([])) s.NoBlock s.End)))) s.NoBlock)) s.End) s.NoBlock)) s.End)))) ≡ (RefusedAt 9 5 2)
unfolding computing
random_959 = refl

random_960 : body_verdict (record { predicates = ([]); specs = ((record { is_void = true; name = name_put; params = (name_p ∷ name_k ∷ []); vars = ((name_v, sort.Val) ∷ (name_w, sort.Val) ∷ (name_o, sort.Val) ∷ []); pre = (record { opened = []; facts = ([]); locals = ((name_p, (Var 0 sort.Val)) ∷ (name_k, (Var 1 sort.Val)) ∷ []); items = ((Data (Number (pos 64)) (Var 0 sort.Val) (Of2 binary.Cons (Var 2 sort.Val) Nil)) ∷ []) }); post = (record { opened = []; facts = ([]); locals = []; items = ((Data (Number (pos 64)) (Var 0 sort.Val) (Of2 binary.Cons (Var 1 sort.Val) Nil)) ∷ []) }) }) ∷ (record { is_void = false; name = name_main; params = ([]); vars = []; pre = (record { opened = []; facts = ([]); locals = []; items = ((Data (Number (pos 64)) (Global name_arr) (Of2 binary.Cons (Of unary.Vi (Number (pos 1))) (Of2 binary.Cons (Of unary.Vi (Number (pos 2))) (Of2 binary.Cons (Of unary.Vi (Number (pos 0))) (Of2 binary.Cons (Of unary.Vi (Number (pos 0))) Nil))))) ∷ (Data (Number (pos 64)) (Global name_g) (Of2 binary.Cons (Of unary.Vi (Number (pos 3))) Nil)) ∷ (Data (Number (pos 64)) (Global name_x) (Of2 binary.Cons (Of unary.Vi (Number (pos 3))) Nil)) ∷ []) }); post = (record { opened = (sort.List ∷ sort.List ∷ sort.List ∷ []); facts = ([]); locals = []; items = ((Data (Number (pos 64)) (Global name_x) (Var 1 sort.List)) ∷ (Data (Number (pos 1)) (Global name_arr) (Var 2 sort.List)) ∷ (Data (Number (pos 63)) (Global name_arr) (Var 2 sort.List)) ∷ (Data (Number (pos 64)) (Global name_g) (Var 3 sort.List)) ∷ []) }) }) ∷ []) }) (record { is_void = false; name = name_main; params = ([]); vars = []; pre = (record { opened = []; facts = ([]); locals = []; items = ((Data (Number (pos 64)) (Global name_arr) (Of2 binary.Cons (Of unary.Vi (Number (pos 1))) (Of2 binary.Cons (Of unary.Vi (Number (pos 2))) (Of2 binary.Cons (Of unary.Vi (Number (pos 0))) (Of2 binary.Cons (Of unary.Vi (Number (pos 0))) Nil))))) ∷ (Data (Number (pos 64)) (Global name_g) (Of2 binary.Cons (Of unary.Vi (Number (pos 3))) Nil)) ∷ (Data (Number (pos 64)) (Global name_x) (Of2 binary.Cons (Of unary.Vi (Number (pos 3))) Nil)) ∷ []) }); post = (record { opened = (sort.List ∷ sort.List ∷ sort.List ∷ []); facts = ([]); locals = []; items = ((Data (Number (pos 64)) (Global name_x) (Var 1 sort.List)) ∷ (Data (Number (pos 1)) (Global name_arr) (Var 2 sort.List)) ∷ (Data (Number (pos 63)) (Global name_arr) (Var 2 sort.List)) ∷ (Data (Number (pos 64)) (Global name_g) (Var 3 sort.List)) ∷ []) }) }) (record { temps = (name_s ∷ name_t ∷ name_i ∷ name_x1 ∷ name_d0 ∷ name_p1 ∷ name_q1 ∷ []); body = (c.Then (c.Set 0 (c.Const 2)) (c.Then (c.Set 1 (c.Const 0)) (c.Then (c.Set 6 (c.Address (root.Global name_g 1) c.Here)) (c.Then (c.Store (root.Temp 6) c.Here (c.Const 4)) (c.Then (c.Load 0 (root.Temp 6) c.Here) (c.Then (c.Set 0 (c.Binary two.Div kind.Signed (c.Const 2) (c.Const 1))) (c.Then (c.Call None name_put ((c.Address (root.Global name_x 1) c.Here) ∷ (c.Temp 1) ∷ [])) (c.Then (c.Set 0 (c.Binary two.Mul kind.Signed (c.Const 2) (c.Const 2))) (c.Then (c.Set 2 (c.Const 0)) (c.Then (c.Loop (c.Then (c.If (c.Nonzero kind.Signed (c.Binary two.Lt kind.Signed (c.Temp 2) (c.Const 1))) (c.Then (c.Store (root.Global name_arr 4) (c.Index kind.Signed (c.Temp 2) c.Here) (c.Temp 2)) (c.Then (c.Set 2 (c.Binary two.Add kind.Signed (c.Temp 2) (c.Const 1))) (c.Then c.Continue c.End))) (c.Then c.Break c.End)) c.End)) (c.Then (c.If (c.Nonzero kind.Signed (c.Binary two.Gt kind.Signed (c.Temp 2) (c.Temp 1))) (c.Then (c.Set 6 (c.Address (root.Global name_g 1) c.Here)) (c.Then (c.Store (root.Temp 6) c.Here (c.Const 4)) (c.Then (c.Load 0 (root.Temp 6) c.Here) c.End))) c.End) (c.Then (c.Return (Some (c.Temp 0))) c.End)))))))))))) }) (s.Then 1 (s.Set ([]) ([])) s.NoBlock (s.Then 2 (s.Set ([]) ([])) s.NoBlock (s.Then 3 (s.Set ([]) ([])) s.NoBlock (s.Then 4 (s.Bounds 0 None ([])) s.NoBlock (s.Then 5 (s.Bounds 2 None ([])) s.NoBlock (s.Then 6 (s.Store 1 ([]) ([])) s.NoBlock (s.Then 7 (s.Load 1 ([]) ([])) s.NoBlock (s.Then 8 (s.Set ([]) ([])) s.NoBlock (s.Then 9 (s.Block 0 (record { opened = []; facts = ([]); locals = ((name_s, (Of unary.Vi (Number (pos 2)))) ∷ (name_t, (Of unary.Vi (Number (pos 0)))) ∷ (name_q1, (Global name_g)) ∷ []); items = ((Data (Number (pos 64)) (Global name_arr) (Of2 binary.Cons (Of unary.Vi (Number (pos 1))) (Of2 binary.Cons (Of unary.Vi (Number (pos 2))) (Of2 binary.Cons (Of unary.Vi (Number (pos 0))) (Of2 binary.Cons (Of unary.Vi (Number (pos 0))) Nil))))) ∷ (Data (Number (pos 64)) (Global name_g) (Of2 binary.Cons (Of unary.Vi (Number (pos 4))) Nil)) ∷ (Data (Number (pos 64)) (Global name_x) (Of2 binary.Cons (Of unary.Vi (Number (pos 3))) Nil)) ∷ []) }) ([]) ([])) (s.WithBlock (s.Then 10 (s.Fall ([]) ([])) s.NoBlock s.End) s.NoBlock) (s.Then 11 (s.Call ((Global name_x) ∷ (Of unary.Vi (Number (pos 0))) ∷ (Of unary.Vi (Number (pos 3))) ∷ []) ([]) ([]) ([])) s.NoBlock (s.Then 12 (s.Set ([]) ([])) s.NoBlock (s.Then 13 (s.Set ([]) ([])) s.NoBlock (s.Then 14 (s.While (record { opened = (sort.Int ∷ sort.List ∷ []); facts = ((Rel relation.Le (Number (pos 0)) (Var 0 sort.Int)) ∷ (Rel relation.Le (Var 0 sort.Int) (Number (pos 1))) ∷ (Rel relation.Eq (Of unary.Len (Var 1 sort.List)) (Number (pos 4))) ∷ []); locals = ((name_s, (Of unary.Vi (Number (pos 4)))) ∷ (name_t, (Of unary.Vi (Number (pos 0)))) ∷ (name_i, (Of unary.Vi (Var 0 sort.Int))) ∷ (name_q1, (Global name_g)) ∷ []); items = ((Data (Number (pos 64)) (Global name_arr) (Var 1 sort.List)) ∷ (Data (Number (pos 64)) (Global name_g) (Of2 binary.Cons (Of unary.Vi (Number (pos 4))) Nil)) ∷ (Data (Number (pos 64)) (Global name_x) (Of2 binary.Cons (Of unary.Vi (Number (pos 0))) Nil)) ∷ []) }) (record { opened = (sort.Int ∷ sort.List ∷ []); facts = ((Rel relation.Le (Number (pos 0)) (Var 0 sort.Int)) ∷ (Rel relation.Le (Var 0 sort.Int) (Number (pos 1))) ∷ (Rel relation.Eq (Of unary.Len (Var 1 sort.List)) (Number (pos 4))) ∷ (Rel relation.Le (Number (pos 1)) (Var 0 sort.Int)) ∷ []); locals = ((name_s, (Of unary.Vi (Number (pos 4)))) ∷ (name_t, (Of unary.Vi (Number (pos 0)))) ∷ (name_i, (Of unary.Vi (Var 0 sort.Int))) ∷ (name_q1, (Global name_g)) ∷ []); items = ((Data (Number (pos 64)) (Global name_arr) (Var 1 sort.List)) ∷ (Data (Number (pos 64)) (Global name_g) (Of2 binary.Cons (Of unary.Vi (Number (pos 4))) Nil)) ∷ (Data (Number (pos 64)) (Global name_x) (Of2 binary.Cons (Of unary.Vi (Number (pos 0))) Nil)) ∷ []) }) (name_k3 ∷ name_k4 ∷ []) ([]) (name_k1 ∷ name_k2 ∷ [])) (s.WithBlock (s.Then 15 (s.Meet ((Number (pos 0)) ∷ (Of2 binary.Cons (Of unary.Vi (Number (pos 1))) (Of2 binary.Cons (Of unary.Vi (Number (pos 2))) (Of2 binary.Cons (Of unary.Vi (Number (pos 0))) (Of2 binary.Cons (Of unary.Vi (Number (pos 0))) Nil)))) ∷ []) ([])) s.NoBlock s.End) (s.WithBlock (s.Then 16 (s.If ([]) ((record { lines = ((line.Comb (((pos 1), 4) ∷ ((pos 1), 8) ∷ [])) ∷ []) }) ∷ (record { lines = ((line.Comb (((pos 1), 5) ∷ ((pos 1), 8) ∷ [])) ∷ []) }) ∷ []) ([]) ([])) (s.WithBlock (s.Then 17 (s.Store 0 ([]) ((record { lines = ((line.Comb (((pos 1), 4) ∷ ((pos 1), 9) ∷ [])) ∷ []) }) ∷ (record { lines = ((line.Comb (((pos 1), 5) ∷ ((pos 1), 9) ∷ [])) ∷ []) }) ∷ (record { lines = ((line.Comb (((pos 1), 5) ∷ ((pos 1), 7) ∷ ((pos 1), 9) ∷ [])) ∷ []) }) ∷ [])) s.NoBlock (s.Then 18 (s.Law name_len_upd ((Named name_k2) ∷ (Named name_k1) ∷ (Of unary.Vi (Named name_k1)) ∷ []) ([])) s.NoBlock (s.Then 19 (s.Block 1 (record { opened = []; facts = ([]); locals = ((name_s, (Of unary.Vi (Number (pos 4)))) ∷ (name_t, (Of unary.Vi (Number (pos 0)))) ∷ (name_i, (Of unary.Vi (Of2 binary.Add (Named name_k1) (Number (pos 1))))) ∷ (name_q1, (Global name_g)) ∷ []); items = ((Data (Number (pos 64)) (Global name_arr) (Of3 ternary.Upd (Named name_k2) (Named name_k1) (Of unary.Vi (Named name_k1)))) ∷ (Data (Number (pos 64)) (Global name_g) (Of2 binary.Cons (Of unary.Vi (Number (pos 4))) Nil)) ∷ (Data (Number (pos 64)) (Global name_x) (Of2 binary.Cons (Of unary.Vi (Number (pos 0))) Nil)) ∷ []) }) ([]) ([])) (s.WithBlock (s.Then 20 (s.Set ([]) ((record { lines = ((line.Comb (((pos 1), 4) ∷ ((pos 1), 11) ∷ [])) ∷ []) }) ∷ (record { lines = ((line.Comb (((pos 1), 5) ∷ ((pos 1), 11) ∷ [])) ∷ []) }) ∷ (record { lines = ((line.Comb (((pos 1), 4) ∷ ((pos 1), 11) ∷ [])) ∷ []) }) ∷ (record { lines = ((line.Comb (((pos 1), 5) ∷ ((pos 1), 11) ∷ [])) ∷ []) }) ∷ [])) s.NoBlock (s.Then 21 (s.Fall ([]) ([])) s.NoBlock s.End)) s.NoBlock) (s.Then 22 (s.Continue ((Of2 binary.Add (Named name_k1) (Number (pos 1))) ∷ (Of3 ternary.Upd (Named name_k2) (Named name_k1) (Of unary.Vi (Named name_k1))) ∷ []) ((record { lines = ((line.Comb (((pos 1), 4) ∷ ((pos 1), 11) ∷ [])) ∷ []) }) ∷ (record { lines = ((line.Comb (((pos 1), 9) ∷ ((pos 1), 6) ∷ ((pos 1), 11) ∷ [])) ∷ []) }) ∷ (record { lines = ((line.Comb (((pos 1), 10) ∷ ((pos 1), 7) ∷ ((pos 1), 11) ∷ [])) ∷ []) }) ∷ [])) s.NoBlock s.End)))) (s.WithBlock (s.Then 23 (s.Break ((Named name_k1) ∷ (Named name_k2) ∷ []) ([])) s.NoBlock s.End) s.NoBlock)) s.End) s.NoBlock)) (s.Then 24 (s.If ([]) ((record { lines = ((line.Comb (((pos 1), 4) ∷ ((pos 1), 9) ∷ [])) ∷ []) }) ∷ (record { lines = ((line.Comb (((pos 1), 5) ∷ ((pos 1), 9) ∷ [])) ∷ []) }) ∷ []) ([]) ([])) (s.WithBlock (s.Then 25 (s.Block 0 (record { opened = []; facts = ([]); locals = ((name_s, (Of unary.Vi (Number (pos 4)))) ∷ (name_t, (Of unary.Vi (Number (pos 0)))) ∷ (name_i, (Of unary.Vi (Named name_k3))) ∷ (name_q1, (Global name_g)) ∷ []); items = ((Data (Number (pos 64)) (Global name_arr) (Named name_k4)) ∷ (Data (Number (pos 64)) (Global name_g) (Of2 binary.Cons (Of unary.Vi (Number (pos 4))) Nil)) ∷ (Data (Number (pos 64)) (Global name_x) (Of2 binary.Cons (Of unary.Vi (Number (pos 0))) Nil)) ∷ []) }) ([]) ([])) (s.WithBlock (s.Then 26 (s.Fall ([]) ([])) s.NoBlock s.End) s.NoBlock) (s.Then 27 (s.Set ([]) ([])) s.NoBlock (s.Then 28 (s.Store 1 ([]) ([])) s.NoBlock (s.Then 29 (s.Share 0 (Number (pos 1)) ([])) s.NoBlock (s.Then 30 (s.Load 0 ([]) ([])) s.NoBlock (s.Then 31 (s.Share 0 (Number (pos 1)) ([])) s.NoBlock (s.Then 32 (s.Unshare 4 3 ([])) s.NoBlock (s.Then 33 (s.Return ((Of2 binary.Cons (Of unary.Vi (Number (pos 0))) Nil) ∷ (Named name_k4) ∷ (Of2 binary.Cons (Of unary.Vi (Number (pos 4))) Nil) ∷ []) ([]) ([])) s.NoBlock s.End)))))))) (s.WithBlock (s.Then 34 (s.Absurd ((record { lines = ((line.Comb (((pos 1), 8) ∷ ((pos 1), 9) ∷ [])) ∷ []) }) ∷ [])) s.NoBlock s.End) s.NoBlock)) s.End)))))))))))))) ≡ Accepted
unfolding computing
random_960 = refl

random_961 : body_verdict (record { predicates = ([]); specs = ((record { is_void = true; name = name_put; params = (name_p ∷ name_k ∷ []); vars = ((name_v, sort.Val) ∷ (name_w, sort.Val) ∷ (name_o, sort.Val) ∷ []); pre = (record { opened = []; facts = ([]); locals = ((name_p, (Var 0 sort.Val)) ∷ (name_k, (Var 1 sort.Val)) ∷ []); items = ((Data (Number (pos 64)) (Var 0 sort.Val) (Of2 binary.Cons (Var 2 sort.Val) Nil)) ∷ []) }); post = (record { opened = []; facts = ([]); locals = []; items = ((Data (Number (pos 64)) (Var 0 sort.Val) (Of2 binary.Cons (Var 1 sort.Val) Nil)) ∷ []) }) }) ∷ (record { is_void = false; name = name_main; params = ([]); vars = []; pre = (record { opened = []; facts = ([]); locals = []; items = ((Data (Number (pos 64)) (Global name_arr) (Of2 binary.Cons (Of unary.Vi (Number (pos 1))) (Of2 binary.Cons (Of unary.Vi (Number (pos 2))) (Of2 binary.Cons (Of unary.Vi (Number (pos 0))) (Of2 binary.Cons (Of unary.Vi (Number (pos 0))) Nil))))) ∷ (Data (Number (pos 64)) (Global name_g) (Of2 binary.Cons (Of unary.Vi (Number (pos 3))) Nil)) ∷ (Data (Number (pos 64)) (Global name_x) (Of2 binary.Cons (Of unary.Vi (Number (pos 3))) Nil)) ∷ []) }); post = (record { opened = (sort.List ∷ sort.List ∷ sort.List ∷ []); facts = ([]); locals = []; items = ((Data (Number (pos 64)) (Global name_x) (Var 1 sort.List)) ∷ (Data (Number (pos 1)) (Global name_arr) (Var 2 sort.List)) ∷ (Data (Number (pos 63)) (Global name_arr) (Var 2 sort.List)) ∷ (Data (Number (pos 64)) (Global name_g) (Var 3 sort.List)) ∷ []) }) }) ∷ []) }) (record { is_void = true; name = name_put; params = (name_p ∷ name_k ∷ []); vars = ((name_v, sort.Val) ∷ (name_w, sort.Val) ∷ (name_o, sort.Val) ∷ []); pre = (record { opened = []; facts = ([]); locals = ((name_p, (Var 0 sort.Val)) ∷ (name_k, (Var 1 sort.Val)) ∷ []); items = ((Data (Number (pos 64)) (Var 0 sort.Val) (Of2 binary.Cons (Var 2 sort.Val) Nil)) ∷ []) }); post = (record { opened = []; facts = ([]); locals = []; items = ((Data (Number (pos 64)) (Var 0 sort.Val) (Of2 binary.Cons (Var 1 sort.Val) Nil)) ∷ []) }) }) (record { temps = (name_p ∷ name_k ∷ []); body = (c.Then (c.Store (root.Temp 0) c.Here (c.Temp 1)) (c.Then (c.Return None) c.End)) }) (s.Then 1 (s.Store 0 ([]) ([])) s.NoBlock (s.Then 2 (s.Return ([]) ([]) ([])) s.NoBlock s.End)) ≡ Accepted
unfolding computing
random_961 = refl

random_962 : body_verdict (record { predicates = ([]); specs = ((record { is_void = true; name = name_put; params = (name_p ∷ name_k ∷ []); vars = ((name_v, sort.Val) ∷ (name_w, sort.Val) ∷ (name_o, sort.Val) ∷ []); pre = (record { opened = []; facts = ([]); locals = ((name_p, (Var 0 sort.Val)) ∷ (name_k, (Var 1 sort.Val)) ∷ []); items = ((Data (Number (pos 64)) (Var 0 sort.Val) (Of2 binary.Cons (Var 2 sort.Val) Nil)) ∷ []) }); post = (record { opened = []; facts = ([]); locals = []; items = ((Data (Number (pos 64)) (Var 0 sort.Val) (Of2 binary.Cons (Var 1 sort.Val) Nil)) ∷ []) }) }) ∷ (record { is_void = false; name = name_main; params = ([]); vars = []; pre = (record { opened = []; facts = ([]); locals = []; items = ((Data (Number (pos 64)) (Global name_arr) (Of2 binary.Cons (Of unary.Vi (Number (pos 1))) (Of2 binary.Cons (Of unary.Vi (Number (pos 2))) (Of2 binary.Cons (Of unary.Vi (Number (pos 32))) (Of2 binary.Cons (Of unary.Vi (Number (pos 0))) Nil))))) ∷ (Data (Number (pos 64)) (Global name_g) (Of2 binary.Cons (Of unary.Vi (Number (pos 3))) Nil)) ∷ (Data (Number (pos 64)) (Global name_x) (Of2 binary.Cons (Of unary.Vi (Number (pos 3))) Nil)) ∷ []) }); post = (record { opened = (sort.List ∷ sort.List ∷ sort.List ∷ []); facts = ([]); locals = []; items = ((Data (Number (pos 64)) (Global name_x) (Var 1 sort.List)) ∷ (Data (Number (pos 1)) (Global name_arr) (Var 2 sort.List)) ∷ (Data (Number (pos 63)) (Global name_arr) (Var 2 sort.List)) ∷ (Data (Number (pos 64)) (Global name_g) (Var 3 sort.List)) ∷ []) }) }) ∷ []) }) (record { is_void = false; name = name_main; params = ([]); vars = []; pre = (record { opened = []; facts = ([]); locals = []; items = ((Data (Number (pos 64)) (Global name_arr) (Of2 binary.Cons (Of unary.Vi (Number (pos 1))) (Of2 binary.Cons (Of unary.Vi (Number (pos 2))) (Of2 binary.Cons (Of unary.Vi (Number (pos 32))) (Of2 binary.Cons (Of unary.Vi (Number (pos 0))) Nil))))) ∷ (Data (Number (pos 64)) (Global name_g) (Of2 binary.Cons (Of unary.Vi (Number (pos 3))) Nil)) ∷ (Data (Number (pos 64)) (Global name_x) (Of2 binary.Cons (Of unary.Vi (Number (pos 3))) Nil)) ∷ []) }); post = (record { opened = (sort.List ∷ sort.List ∷ sort.List ∷ []); facts = ([]); locals = []; items = ((Data (Number (pos 64)) (Global name_x) (Var 1 sort.List)) ∷ (Data (Number (pos 1)) (Global name_arr) (Var 2 sort.List)) ∷ (Data (Number (pos 63)) (Global name_arr) (Var 2 sort.List)) ∷ (Data (Number (pos 64)) (Global name_g) (Var 3 sort.List)) ∷ []) }) }) (record { temps = (name_s ∷ name_t ∷ name_i ∷ name_x1 ∷ name_d0 ∷ name_p1 ∷ name_q1 ∷ []); body = (c.Then (c.Set 0 (c.Const 2)) (c.Then (c.Set 1 (c.Const 0)) (c.Then (c.Set 6 (c.Address (root.Global name_g 1) c.Here)) (c.Then (c.Store (root.Temp 6) c.Here (c.Const 4)) (c.Then (c.Load 0 (root.Temp 6) c.Here) (c.Then (c.Set 0 (c.Binary two.Div kind.Signed (c.Const 2) (c.Const 1))) (c.Then (c.Call None name_put ((c.Address (root.Global name_x 1) c.Here) ∷ (c.Temp 1) ∷ [])) (c.Then (c.Set 0 (c.Binary two.Mul kind.Signed (c.Const 2) (c.Const 2))) (c.Then (c.Set 2 (c.Const 0)) (c.Then (c.Loop (c.Then (c.If (c.Nonzero kind.Signed (c.Binary two.Lt kind.Signed (c.Temp 2) (c.Const 1))) (c.Then (c.Store (root.Global name_arr 4) (c.Index kind.Signed (c.Temp 2) c.Here) (c.Temp 2)) (c.Then (c.Set 2 (c.Binary two.Add kind.Signed (c.Temp 2) (c.Const 1))) (c.Then c.Continue c.End))) (c.Then c.Break c.End)) c.End)) (c.Then (c.If (c.Nonzero kind.Signed (c.Binary two.Gt kind.Signed (c.Temp 2) (c.Temp 1))) (c.Then (c.Set 6 (c.Address (root.Global name_g 1) c.Here)) (c.Then (c.Store (root.Temp 6) c.Here (c.Const 4)) (c.Then (c.Load 0 (root.Temp 6) c.Here) c.End))) c.End) (c.Then (c.Return (Some (c.Temp 0))) c.End)))))))))))) }) (s.Then 1 (s.Set ([]) ([])) s.NoBlock (s.Then 2 (s.Set ([]) ([])) s.NoBlock (s.Then 3 (s.Set ([]) ([])) s.NoBlock (s.Then 4 (s.Bounds 0 None ([])) s.NoBlock (s.Then 5 (s.Bounds 2 None ([])) s.NoBlock (s.Then 6 (s.Store 1 ([]) ([])) s.NoBlock (s.Then 7 (s.Load 1 ([]) ([])) s.NoBlock (s.Then 8 (s.Set ([]) ([])) s.NoBlock (s.Then 9 (s.Block 0 (record { opened = []; facts = ([]); locals = ((name_s, (Of unary.Vi (Number (pos 2)))) ∷ (name_t, (Of unary.Vi (Number (pos 0)))) ∷ (name_q1, (Global name_g)) ∷ []); items = ((Data (Number (pos 64)) (Global name_arr) (Of2 binary.Cons (Of unary.Vi (Number (pos 1))) (Of2 binary.Cons (Of unary.Vi (Number (pos 2))) (Of2 binary.Cons (Of unary.Vi (Number (pos 0))) (Of2 binary.Cons (Of unary.Vi (Number (pos 0))) Nil))))) ∷ (Data (Number (pos 64)) (Global name_g) (Of2 binary.Cons (Of unary.Vi (Number (pos 4))) Nil)) ∷ (Data (Number (pos 64)) (Global name_x) (Of2 binary.Cons (Of unary.Vi (Number (pos 3))) Nil)) ∷ []) }) ([]) ([])) (s.WithBlock (s.Then 10 (s.Fall ([]) ([])) s.NoBlock s.End) s.NoBlock) (s.Then 11 (s.Call ((Global name_x) ∷ (Of unary.Vi (Number (pos 0))) ∷ (Of unary.Vi (Number (pos 3))) ∷ []) ([]) ([]) ([])) s.NoBlock (s.Then 12 (s.Set ([]) ([])) s.NoBlock (s.Then 13 (s.Set ([]) ([])) s.NoBlock (s.Then 14 (s.While (record { opened = (sort.Int ∷ sort.List ∷ []); facts = ((Rel relation.Le (Number (pos 0)) (Var 0 sort.Int)) ∷ (Rel relation.Le (Var 0 sort.Int) (Number (pos 1))) ∷ (Rel relation.Eq (Of unary.Len (Var 1 sort.List)) (Number (pos 4))) ∷ []); locals = ((name_s, (Of unary.Vi (Number (pos 4)))) ∷ (name_t, (Of unary.Vi (Number (pos 0)))) ∷ (name_i, (Of unary.Vi (Var 0 sort.Int))) ∷ (name_q1, (Global name_g)) ∷ []); items = ((Data (Number (pos 64)) (Global name_arr) (Var 1 sort.List)) ∷ (Data (Number (pos 64)) (Global name_g) (Of2 binary.Cons (Of unary.Vi (Number (pos 4))) Nil)) ∷ (Data (Number (pos 64)) (Global name_x) (Of2 binary.Cons (Of unary.Vi (Number (pos 0))) Nil)) ∷ []) }) (record { opened = (sort.Int ∷ sort.List ∷ []); facts = ((Rel relation.Le (Number (pos 0)) (Var 0 sort.Int)) ∷ (Rel relation.Le (Var 0 sort.Int) (Number (pos 1))) ∷ (Rel relation.Eq (Of unary.Len (Var 1 sort.List)) (Number (pos 4))) ∷ (Rel relation.Le (Number (pos 1)) (Var 0 sort.Int)) ∷ []); locals = ((name_s, (Of unary.Vi (Number (pos 4)))) ∷ (name_t, (Of unary.Vi (Number (pos 0)))) ∷ (name_i, (Of unary.Vi (Var 0 sort.Int))) ∷ (name_q1, (Global name_g)) ∷ []); items = ((Data (Number (pos 64)) (Global name_arr) (Var 1 sort.List)) ∷ (Data (Number (pos 64)) (Global name_g) (Of2 binary.Cons (Of unary.Vi (Number (pos 4))) Nil)) ∷ (Data (Number (pos 64)) (Global name_x) (Of2 binary.Cons (Of unary.Vi (Number (pos 0))) Nil)) ∷ []) }) (name_k3 ∷ name_k4 ∷ []) ([]) (name_k1 ∷ name_k2 ∷ [])) (s.WithBlock (s.Then 15 (s.Meet ((Number (pos 0)) ∷ (Of2 binary.Cons (Of unary.Vi (Number (pos 1))) (Of2 binary.Cons (Of unary.Vi (Number (pos 2))) (Of2 binary.Cons (Of unary.Vi (Number (pos 0))) (Of2 binary.Cons (Of unary.Vi (Number (pos 0))) Nil)))) ∷ []) ([])) s.NoBlock s.End) (s.WithBlock (s.Then 16 (s.If ([]) ((record { lines = ((line.Comb (((pos 1), 4) ∷ ((pos 1), 8) ∷ [])) ∷ []) }) ∷ (record { lines = ((line.Comb (((pos 1), 5) ∷ ((pos 1), 8) ∷ [])) ∷ []) }) ∷ []) ([]) ([])) (s.WithBlock (s.Then 17 (s.Store 0 ([]) ((record { lines = ((line.Comb (((pos 1), 4) ∷ ((pos 1), 9) ∷ [])) ∷ []) }) ∷ (record { lines = ((line.Comb (((pos 1), 5) ∷ ((pos 1), 9) ∷ [])) ∷ []) }) ∷ (record { lines = ((line.Comb (((pos 1), 5) ∷ ((pos 1), 7) ∷ ((pos 1), 9) ∷ [])) ∷ []) }) ∷ [])) s.NoBlock (s.Then 18 (s.Law name_len_upd ((Named name_k2) ∷ (Named name_k1) ∷ (Of unary.Vi (Named name_k1)) ∷ []) ([])) s.NoBlock (s.Then 19 (s.Block 1 (record { opened = []; facts = ([]); locals = ((name_s, (Of unary.Vi (Number (pos 4)))) ∷ (name_t, (Of unary.Vi (Number (pos 0)))) ∷ (name_i, (Of unary.Vi (Of2 binary.Add (Named name_k1) (Number (pos 1))))) ∷ (name_q1, (Global name_g)) ∷ []); items = ((Data (Number (pos 64)) (Global name_arr) (Of3 ternary.Upd (Named name_k2) (Named name_k1) (Of unary.Vi (Named name_k1)))) ∷ (Data (Number (pos 64)) (Global name_g) (Of2 binary.Cons (Of unary.Vi (Number (pos 4))) Nil)) ∷ (Data (Number (pos 64)) (Global name_x) (Of2 binary.Cons (Of unary.Vi (Number (pos 0))) Nil)) ∷ []) }) ([]) ([])) (s.WithBlock (s.Then 20 (s.Set ([]) ((record { lines = ((line.Comb (((pos 1), 4) ∷ ((pos 1), 11) ∷ [])) ∷ []) }) ∷ (record { lines = ((line.Comb (((pos 1), 5) ∷ ((pos 1), 11) ∷ [])) ∷ []) }) ∷ (record { lines = ((line.Comb (((pos 1), 4) ∷ ((pos 1), 11) ∷ [])) ∷ []) }) ∷ (record { lines = ((line.Comb (((pos 1), 5) ∷ ((pos 1), 11) ∷ [])) ∷ []) }) ∷ [])) s.NoBlock (s.Then 21 (s.Fall ([]) ([])) s.NoBlock s.End)) s.NoBlock) (s.Then 22 (s.Continue ((Of2 binary.Add (Named name_k1) (Number (pos 1))) ∷ (Of3 ternary.Upd (Named name_k2) (Named name_k1) (Of unary.Vi (Named name_k1))) ∷ []) ((record { lines = ((line.Comb (((pos 1), 4) ∷ ((pos 1), 11) ∷ [])) ∷ []) }) ∷ (record { lines = ((line.Comb (((pos 1), 9) ∷ ((pos 1), 6) ∷ ((pos 1), 11) ∷ [])) ∷ []) }) ∷ (record { lines = ((line.Comb (((pos 1), 10) ∷ ((pos 1), 7) ∷ ((pos 1), 11) ∷ [])) ∷ []) }) ∷ [])) s.NoBlock s.End)))) (s.WithBlock (s.Then 23 (s.Break ((Named name_k1) ∷ (Named name_k2) ∷ []) ([])) s.NoBlock s.End) s.NoBlock)) s.End) s.NoBlock)) (s.Then 24 (s.If ([]) ((record { lines = ((line.Comb (((pos 1), 4) ∷ ((pos 1), 9) ∷ [])) ∷ []) }) ∷ (record { lines = ((line.Comb (((pos 1), 5) ∷ ((pos 1), 9) ∷ [])) ∷ []) }) ∷ []) ([]) ([])) (s.WithBlock (s.Then 25 (s.Block 0 (record { opened = []; facts = ([]); locals = ((name_s, (Of unary.Vi (Number (pos 4)))) ∷ (name_t, (Of unary.Vi (Number (pos 0)))) ∷ (name_i, (Of unary.Vi (Named name_k3))) ∷ (name_q1, (Global name_g)) ∷ []); items = ((Data (Number (pos 64)) (Global name_arr) (Named name_k4)) ∷ (Data (Number (pos 64)) (Global name_g) (Of2 binary.Cons (Of unary.Vi (Number (pos 4))) Nil)) ∷ (Data (Number (pos 64)) (Global name_x) (Of2 binary.Cons (Of unary.Vi (Number (pos 0))) Nil)) ∷ []) }) ([]) ([])) (s.WithBlock (s.Then 26 (s.Fall ([]) ([])) s.NoBlock s.End) s.NoBlock) (s.Then 27 (s.Set ([]) ([])) s.NoBlock (s.Then 28 (s.Store 1 ([]) ([])) s.NoBlock (s.Then 29 (s.Share 0 (Number (pos 1)) ([])) s.NoBlock (s.Then 30 (s.Load 0 ([]) ([])) s.NoBlock (s.Then 31 (s.Share 0 (Number (pos 1)) ([])) s.NoBlock (s.Then 32 (s.Unshare 4 3 ([])) s.NoBlock (s.Then 33 (s.Return ((Of2 binary.Cons (Of unary.Vi (Number (pos 0))) Nil) ∷ (Named name_k4) ∷ (Of2 binary.Cons (Of unary.Vi (Number (pos 4))) Nil) ∷ []) ([]) ([])) s.NoBlock s.End)))))))) (s.WithBlock (s.Then 34 (s.Absurd ((record { lines = ((line.Comb (((pos 1), 8) ∷ ((pos 1), 9) ∷ [])) ∷ []) }) ∷ [])) s.NoBlock s.End) s.NoBlock)) s.End)))))))))))))) ≡ (RefusedAt 10 10 5)
unfolding computing
random_962 = refl

random_963 : body_verdict (record { predicates = ([]); specs = ((record { is_void = true; name = name_put; params = (name_p ∷ name_k ∷ []); vars = ((name_v, sort.Val) ∷ (name_w, sort.Val) ∷ (name_o, sort.Val) ∷ []); pre = (record { opened = []; facts = ([]); locals = ((name_p, (Var 0 sort.Val)) ∷ (name_k, (Var 1 sort.Val)) ∷ []); items = ((Data (Number (pos 64)) (Var 0 sort.Val) (Of2 binary.Cons (Var 2 sort.Val) Nil)) ∷ []) }); post = (record { opened = []; facts = ([]); locals = []; items = ((Data (Number (pos 64)) (Var 0 sort.Val) (Of2 binary.Cons (Var 1 sort.Val) Nil)) ∷ []) }) }) ∷ (record { is_void = false; name = name_main; params = ([]); vars = []; pre = (record { opened = []; facts = ([]); locals = []; items = ((Data (Number (pos 64)) (Global name_arr) (Of2 binary.Cons (Of unary.Vi (Number (pos 1))) (Of2 binary.Cons (Of unary.Vi (Number (pos 2))) (Of2 binary.Cons (Of unary.Vi (Number (pos 32))) (Of2 binary.Cons (Of unary.Vi (Number (pos 0))) Nil))))) ∷ (Data (Number (pos 64)) (Global name_g) (Of2 binary.Cons (Of unary.Vi (Number (pos 3))) Nil)) ∷ (Data (Number (pos 64)) (Global name_x) (Of2 binary.Cons (Of unary.Vi (Number (pos 3))) Nil)) ∷ []) }); post = (record { opened = (sort.List ∷ sort.List ∷ sort.List ∷ []); facts = ([]); locals = []; items = ((Data (Number (pos 64)) (Global name_x) (Var 1 sort.List)) ∷ (Data (Number (pos 1)) (Global name_arr) (Var 2 sort.List)) ∷ (Data (Number (pos 63)) (Global name_arr) (Var 2 sort.List)) ∷ (Data (Number (pos 64)) (Global name_g) (Var 3 sort.List)) ∷ []) }) }) ∷ []) }) (record { is_void = true; name = name_put; params = (name_p ∷ name_k ∷ []); vars = ((name_v, sort.Val) ∷ (name_w, sort.Val) ∷ (name_o, sort.Val) ∷ []); pre = (record { opened = []; facts = ([]); locals = ((name_p, (Var 0 sort.Val)) ∷ (name_k, (Var 1 sort.Val)) ∷ []); items = ((Data (Number (pos 64)) (Var 0 sort.Val) (Of2 binary.Cons (Var 2 sort.Val) Nil)) ∷ []) }); post = (record { opened = []; facts = ([]); locals = []; items = ((Data (Number (pos 64)) (Var 0 sort.Val) (Of2 binary.Cons (Var 1 sort.Val) Nil)) ∷ []) }) }) (record { temps = (name_p ∷ name_k ∷ []); body = (c.Then (c.Store (root.Temp 0) c.Here (c.Temp 1)) (c.Then (c.Return None) c.End)) }) (s.Then 1 (s.Store 0 ([]) ([])) s.NoBlock (s.Then 2 (s.Return ([]) ([]) ([])) s.NoBlock s.End)) ≡ Accepted
unfolding computing
random_963 = refl

random_964 : body_verdict (record { predicates = ([]); specs = ((record { is_void = true; name = name_put; params = (name_p ∷ name_k ∷ []); vars = ((name_v, sort.Val) ∷ (name_w, sort.Val) ∷ (name_o, sort.Val) ∷ []); pre = (record { opened = []; facts = ([]); locals = ((name_p, (Var 0 sort.Val)) ∷ (name_k, (Var 1 sort.Val)) ∷ []); items = ((Data (Number (pos 64)) (Var 0 sort.Val) (Of2 binary.Cons (Var 2 sort.Val) Nil)) ∷ []) }); post = (record { opened = []; facts = ([]); locals = []; items = ((Data (Number (pos 64)) (Var 0 sort.Val) (Of2 binary.Cons (Var 1 sort.Val) Nil)) ∷ []) }) }) ∷ (record { is_void = false; name = name_main; params = ([]); vars = []; pre = (record { opened = []; facts = ([]); locals = []; items = ((Data (Number (pos 64)) (Global name_arr) (Of2 binary.Cons (Of unary.Vi (Number (pos 1))) (Of2 binary.Cons (Of unary.Vi (Number (pos 2))) (Of2 binary.Cons (Of unary.Vi (Number (pos 0))) (Of2 binary.Cons (Of unary.Vi (Number (pos 0))) Nil))))) ∷ (Data (Number (pos 64)) (Global name_g) (Of2 binary.Cons (Of unary.Vi (Number (pos 3))) Nil)) ∷ (Data (Number (pos 64)) (Global name_x) (Of2 binary.Cons (Of unary.Vi (Number (pos 3))) Nil)) ∷ []) }); post = (record { opened = (sort.List ∷ sort.List ∷ sort.List ∷ []); facts = ([]); locals = []; items = ((Data (Number (pos 64)) (Global name_x) (Var 1 sort.List)) ∷ (Data (Number (pos 1)) (Global name_arr) (Var 2 sort.List)) ∷ (Data (Number (pos 63)) (Global name_arr) (Var 2 sort.List)) ∷ (Data (Number (pos 64)) (Global name_g) (Var 3 sort.List)) ∷ []) }) }) ∷ []) }) (record { is_void = false; name = name_main; params = ([]); vars = []; pre = (record { opened = []; facts = ([]); locals = []; items = ((Data (Number (pos 64)) (Global name_arr) (Of2 binary.Cons (Of unary.Vi (Number (pos 1))) (Of2 binary.Cons (Of unary.Vi (Number (pos 2))) (Of2 binary.Cons (Of unary.Vi (Number (pos 0))) (Of2 binary.Cons (Of unary.Vi (Number (pos 0))) Nil))))) ∷ (Data (Number (pos 64)) (Global name_g) (Of2 binary.Cons (Of unary.Vi (Number (pos 3))) Nil)) ∷ (Data (Number (pos 64)) (Global name_x) (Of2 binary.Cons (Of unary.Vi (Number (pos 3))) Nil)) ∷ []) }); post = (record { opened = (sort.List ∷ sort.List ∷ sort.List ∷ []); facts = ([]); locals = []; items = ((Data (Number (pos 64)) (Global name_x) (Var 1 sort.List)) ∷ (Data (Number (pos 1)) (Global name_arr) (Var 2 sort.List)) ∷ (Data (Number (pos 63)) (Global name_arr) (Var 2 sort.List)) ∷ (Data (Number (pos 64)) (Global name_g) (Var 3 sort.List)) ∷ []) }) }) (record { temps = (name_s ∷ name_t ∷ name_i ∷ name_x1 ∷ name_d0 ∷ name_p1 ∷ name_q1 ∷ []); body = (c.Then (c.Set 0 (c.Const 2)) (c.Then (c.Set 1 (c.Const 0)) (c.Then (c.Set 6 (c.Address (root.Global name_g 1) c.Here)) (c.Then (c.Store (root.Temp 6) c.Here (c.Const 4)) (c.Then (c.Load 0 (root.Temp 6) c.Here) (c.Then (c.Set 0 (c.Binary two.Div kind.Signed (c.Const 2) (c.Const 1))) (c.Then (c.Call None name_put ((c.Address (root.Global name_x 1) c.Here) ∷ (c.Temp 1) ∷ [])) (c.Then (c.Set 0 (c.Binary two.Mul kind.Signed (c.Const 2) (c.Const 2))) (c.Then (c.Set 2 (c.Const 0)) (c.Then (c.Loop (c.Then (c.If (c.Nonzero kind.Signed (c.Binary two.Lt kind.Signed (c.Temp 2) (c.Const 1))) (c.Then (c.Store (root.Global name_arr 4) (c.Index kind.Signed (c.Temp 2) c.Here) (c.Temp 2)) (c.Then (c.Set 2 (c.Binary two.Add kind.Signed (c.Temp 2) (c.Const 1))) (c.Then c.Continue c.End))) (c.Then c.Break c.End)) c.End)) (c.Then (c.If (c.Nonzero kind.Signed (c.Binary two.Gt kind.Signed (c.Temp 2) (c.Temp 1))) (c.Then (c.Set 6 (c.Address (root.Global name_g 1) c.Here)) (c.Then (c.Store (root.Temp 6) c.Here (c.Const 4)) (c.Then (c.Load 0 (root.Temp 6) c.Here) c.End))) c.End) (c.Then (c.Return (Some (c.Temp 0))) c.End)))))))))))) }) (s.Then 1 (s.Set ([]) ([])) s.NoBlock (s.Then 2 (s.Set ([]) ([])) s.NoBlock (s.Then 3 (s.Set ([]) ([])) s.NoBlock (s.Then 4 (s.Bounds 0 None ([])) s.NoBlock (s.Then 5 (s.Bounds 2 None ([])) s.NoBlock (s.Then 6 (s.Store 1 ([]) ([])) s.NoBlock (s.Then 7 (s.Load 1 ([]) ([])) s.NoBlock (s.Then 8 (s.Set ([]) ([])) s.NoBlock (s.Then 9 (s.Block 0 (record { opened = []; facts = ([]); locals = ((name_s, (Of unary.Vi (Number (pos 2)))) ∷ (name_t, (Of unary.Vi (Number (pos 0)))) ∷ (name_q1, (Global name_g)) ∷ []); items = ((Data (Number (pos 64)) (Global name_arr) (Of2 binary.Cons (Of unary.Vi (Number (pos 1))) (Of2 binary.Cons (Of unary.Vi (Number (pos 2))) (Of2 binary.Cons (Of unary.Vi (Number (pos 0))) (Of2 binary.Cons (Of unary.Vi (Number (pos 0))) Nil))))) ∷ (Data (Number (pos 64)) (Global name_g) (Of2 binary.Cons (Of unary.Vi (Number (pos 4))) Nil)) ∷ (Data (Number (pos 64)) (Global name_x) (Of2 binary.Cons (Of unary.Vi (Number (pos 3))) Nil)) ∷ []) }) ([]) ([])) (s.WithBlock (s.Then 10 (s.Fall ([]) ([])) s.NoBlock s.End) s.NoBlock) (s.Then 11 (s.Call ((Global name_x) ∷ (Of unary.Vi (Number (pos 0))) ∷ (Of unary.Vi (Number (pos 3))) ∷ []) ([]) ([]) ([])) s.NoBlock (s.Then 12 (s.Set ([]) ([])) s.NoBlock (s.Then 13 (s.Set ([]) ([])) s.NoBlock (s.Then 14 (s.While (record { opened = (sort.Int ∷ sort.List ∷ []); facts = ((Rel relation.Le (Number (pos 0)) (Var 0 sort.Int)) ∷ (Rel relation.Le (Var 0 sort.Int) (Number (pos 1))) ∷ (Rel relation.Eq (Of unary.Len (Var 1 sort.List)) (Number (pos 4))) ∷ []); locals = ((name_s, (Of unary.Vi (Number (pos 4)))) ∷ (name_t, (Of unary.Vi (Number (pos 0)))) ∷ (name_i, (Of unary.Vi (Var 0 sort.Int))) ∷ (name_q1, (Global name_g)) ∷ []); items = ((Data (Number (pos 64)) (Global name_arr) (Var 1 sort.List)) ∷ (Data (Number (pos 64)) (Global name_g) (Of2 binary.Cons (Of unary.Vi (Number (pos 4))) Nil)) ∷ (Data (Number (pos 64)) (Global name_x) (Of2 binary.Cons (Of unary.Vi (Number (pos 0))) Nil)) ∷ []) }) (record { opened = (sort.Int ∷ sort.List ∷ []); facts = ((Rel relation.Le (Number (pos 0)) (Var 0 sort.Int)) ∷ (Rel relation.Le (Var 0 sort.Int) (Number (pos 1))) ∷ (Rel relation.Eq (Of unary.Len (Var 1 sort.List)) (Number (pos 4))) ∷ (Rel relation.Le (Number (pos 1)) (Var 0 sort.Int)) ∷ []); locals = ((name_s, (Of unary.Vi (Number (pos 4)))) ∷ (name_t, (Of unary.Vi (Number (pos 0)))) ∷ (name_i, (Of unary.Vi (Var 0 sort.Int))) ∷ (name_q1, (Global name_g)) ∷ []); items = ((Data (Number (pos 64)) (Global name_arr) (Var 1 sort.List)) ∷ (Data (Number (pos 64)) (Global name_g) (Of2 binary.Cons (Of unary.Vi (Number (pos 4))) Nil)) ∷ (Data (Number (pos 64)) (Global name_x) (Of2 binary.Cons (Of unary.Vi (Number (pos 0))) Nil)) ∷ []) }) (name_k3 ∷ name_k4 ∷ []) ([]) (name_k1 ∷ name_k2 ∷ [])) (s.WithBlock (s.Then 15 (s.Meet ((Number (pos 0)) ∷ (Of2 binary.Cons (Of unary.Vi (Number (pos 1))) (Of2 binary.Cons (Of unary.Vi (Number (pos 2))) (Of2 binary.Cons (Of unary.Vi (Number (pos 0))) (Of2 binary.Cons (Of unary.Vi (Number (pos 0))) Nil)))) ∷ []) ([])) s.NoBlock s.End) (s.WithBlock (s.Then 16 (s.If ([]) ((record { lines = ((line.Comb (((pos 1), 4) ∷ ((pos 1), 8) ∷ [])) ∷ []) }) ∷ (record { lines = ((line.Comb (((pos 1), 5) ∷ ((pos 1), 8) ∷ [])) ∷ []) }) ∷ []) ([]) ([])) (s.WithBlock (s.Then 17 (s.Store 0 ([]) ((record { lines = ((line.Comb (((pos 1), 4) ∷ ((pos 1), 9) ∷ [])) ∷ []) }) ∷ (record { lines = ((line.Comb (((pos 1), 5) ∷ ((pos 1), 9) ∷ [])) ∷ []) }) ∷ (record { lines = ((line.Comb (((pos 1), 5) ∷ ((pos 1), 7) ∷ ((pos 1), 9) ∷ [])) ∷ []) }) ∷ [])) s.NoBlock (s.Then 18 (s.Law name_len_upd ((Named name_k2) ∷ (Named name_k1) ∷ (Of unary.Vi (Named name_k1)) ∷ []) ([])) s.NoBlock (s.Then 19 (s.Block 1 (record { opened = []; facts = ([]); locals = ((name_s, (Of unary.Vi (Number (pos 4)))) ∷ (name_t, (Of unary.Vi (Number (pos 0)))) ∷ (name_i, (Of unary.Vi (Of2 binary.Add (Named name_k1) (Number (pos 1))))) ∷ (name_q1, (Global name_g)) ∷ []); items = ((Data (Number (pos 64)) (Global name_arr) (Of3 ternary.Upd (Named name_k2) (Named name_k1) (Of unary.Vi (Named name_k1)))) ∷ (Data (Number (pos 64)) (Global name_g) (Of2 binary.Cons (Of unary.Vi (Number (pos 4))) Nil)) ∷ (Data (Number (pos 64)) (Global name_x) (Of2 binary.Cons (Of unary.Vi (Number (pos 0))) Nil)) ∷ []) }) ([]) ([])) (s.WithBlock (s.Then 20 (s.Set ([]) ((record { lines = ((line.Comb (((pos 1), 4) ∷ ((pos 1), 0) ∷ [])) ∷ []) }) ∷ (record { lines = ((line.Comb (((pos 1), 5) ∷ ((pos 1), 11) ∷ [])) ∷ []) }) ∷ (record { lines = ((line.Comb (((pos 1), 4) ∷ ((pos 1), 11) ∷ [])) ∷ []) }) ∷ (record { lines = ((line.Comb (((pos 1), 5) ∷ ((pos 1), 11) ∷ [])) ∷ []) }) ∷ [])) s.NoBlock (s.Then 21 (s.Fall ([]) ([])) s.NoBlock s.End)) s.NoBlock) (s.Then 22 (s.Continue ((Of2 binary.Add (Named name_k1) (Number (pos 1))) ∷ (Of3 ternary.Upd (Named name_k2) (Named name_k1) (Of unary.Vi (Named name_k1))) ∷ []) ((record { lines = ((line.Comb (((pos 1), 4) ∷ ((pos 1), 11) ∷ [])) ∷ []) }) ∷ (record { lines = ((line.Comb (((pos 1), 9) ∷ ((pos 1), 6) ∷ ((pos 1), 11) ∷ [])) ∷ []) }) ∷ (record { lines = ((line.Comb (((pos 1), 10) ∷ ((pos 1), 7) ∷ ((pos 1), 11) ∷ [])) ∷ []) }) ∷ [])) s.NoBlock s.End)))) (s.WithBlock (s.Then 23 (s.Break ((Named name_k1) ∷ (Named name_k2) ∷ []) ([])) s.NoBlock s.End) s.NoBlock)) s.End) s.NoBlock)) (s.Then 24 (s.If ([]) ((record { lines = ((line.Comb (((pos 1), 4) ∷ ((pos 1), 9) ∷ [])) ∷ []) }) ∷ (record { lines = ((line.Comb (((pos 1), 5) ∷ ((pos 1), 9) ∷ [])) ∷ []) }) ∷ []) ([]) ([])) (s.WithBlock (s.Then 25 (s.Block 0 (record { opened = []; facts = ([]); locals = ((name_s, (Of unary.Vi (Number (pos 4)))) ∷ (name_t, (Of unary.Vi (Number (pos 0)))) ∷ (name_i, (Of unary.Vi (Named name_k3))) ∷ (name_q1, (Global name_g)) ∷ []); items = ((Data (Number (pos 64)) (Global name_arr) (Named name_k4)) ∷ (Data (Number (pos 64)) (Global name_g) (Of2 binary.Cons (Of unary.Vi (Number (pos 4))) Nil)) ∷ (Data (Number (pos 64)) (Global name_x) (Of2 binary.Cons (Of unary.Vi (Number (pos 0))) Nil)) ∷ []) }) ([]) ([])) (s.WithBlock (s.Then 26 (s.Fall ([]) ([])) s.NoBlock s.End) s.NoBlock) (s.Then 27 (s.Set ([]) ([])) s.NoBlock (s.Then 28 (s.Store 1 ([]) ([])) s.NoBlock (s.Then 29 (s.Share 0 (Number (pos 1)) ([])) s.NoBlock (s.Then 30 (s.Load 0 ([]) ([])) s.NoBlock (s.Then 31 (s.Share 0 (Number (pos 1)) ([])) s.NoBlock (s.Then 32 (s.Unshare 4 3 ([])) s.NoBlock (s.Then 33 (s.Return ((Of2 binary.Cons (Of unary.Vi (Number (pos 0))) Nil) ∷ (Named name_k4) ∷ (Of2 binary.Cons (Of unary.Vi (Number (pos 4))) Nil) ∷ []) ([]) ([])) s.NoBlock s.End)))))))) (s.WithBlock (s.Then 34 (s.Absurd ((record { lines = ((line.Comb (((pos 1), 8) ∷ ((pos 1), 9) ∷ [])) ∷ []) }) ∷ [])) s.NoBlock s.End) s.NoBlock)) s.End)))))))))))))) ≡ (RefusedAt 20 2 3)
unfolding computing
random_964 = refl

random_965 : body_verdict (record { predicates = ([]); specs = ((record { is_void = true; name = name_put; params = (name_p ∷ name_k ∷ []); vars = ((name_v, sort.Val) ∷ (name_w, sort.Val) ∷ (name_o, sort.Val) ∷ []); pre = (record { opened = []; facts = ([]); locals = ((name_p, (Var 0 sort.Val)) ∷ (name_k, (Var 1 sort.Val)) ∷ []); items = ((Data (Number (pos 64)) (Var 0 sort.Val) (Of2 binary.Cons (Var 2 sort.Val) Nil)) ∷ []) }); post = (record { opened = []; facts = ([]); locals = []; items = ((Data (Number (pos 64)) (Var 0 sort.Val) (Of2 binary.Cons (Var 1 sort.Val) Nil)) ∷ []) }) }) ∷ (record { is_void = false; name = name_main; params = ([]); vars = []; pre = (record { opened = []; facts = ([]); locals = []; items = ((Data (Number (pos 64)) (Global name_arr) (Of2 binary.Cons (Of unary.Vi (Number (pos 1))) (Of2 binary.Cons (Of unary.Vi (Number (pos 2))) (Of2 binary.Cons (Of unary.Vi (Number (pos 0))) (Of2 binary.Cons (Of unary.Vi (Number (pos 0))) Nil))))) ∷ (Data (Number (pos 64)) (Global name_arr) (Of2 binary.Cons (Of unary.Vi (Number (pos 3))) Nil)) ∷ (Data (Number (pos 64)) (Global name_x) (Of2 binary.Cons (Of unary.Vi (Number (pos 3))) Nil)) ∷ []) }); post = (record { opened = (sort.List ∷ sort.List ∷ sort.List ∷ []); facts = ([]); locals = []; items = ((Data (Number (pos 64)) (Global name_x) (Var 1 sort.List)) ∷ (Data (Number (pos 1)) (Global name_arr) (Var 2 sort.List)) ∷ (Data (Number (pos 63)) (Global name_arr) (Var 2 sort.List)) ∷ (Data (Number (pos 64)) (Global name_g) (Var 3 sort.List)) ∷ []) }) }) ∷ []) }) (record { is_void = false; name = name_main; params = ([]); vars = []; pre = (record { opened = []; facts = ([]); locals = []; items = ((Data (Number (pos 64)) (Global name_arr) (Of2 binary.Cons (Of unary.Vi (Number (pos 1))) (Of2 binary.Cons (Of unary.Vi (Number (pos 2))) (Of2 binary.Cons (Of unary.Vi (Number (pos 0))) (Of2 binary.Cons (Of unary.Vi (Number (pos 0))) Nil))))) ∷ (Data (Number (pos 64)) (Global name_arr) (Of2 binary.Cons (Of unary.Vi (Number (pos 3))) Nil)) ∷ (Data (Number (pos 64)) (Global name_x) (Of2 binary.Cons (Of unary.Vi (Number (pos 3))) Nil)) ∷ []) }); post = (record { opened = (sort.List ∷ sort.List ∷ sort.List ∷ []); facts = ([]); locals = []; items = ((Data (Number (pos 64)) (Global name_x) (Var 1 sort.List)) ∷ (Data (Number (pos 1)) (Global name_arr) (Var 2 sort.List)) ∷ (Data (Number (pos 63)) (Global name_arr) (Var 2 sort.List)) ∷ (Data (Number (pos 64)) (Global name_g) (Var 3 sort.List)) ∷ []) }) }) (record { temps = (name_s ∷ name_t ∷ name_i ∷ name_x1 ∷ name_d0 ∷ name_p1 ∷ name_q1 ∷ []); body = (c.Then (c.Set 0 (c.Const 2)) (c.Then (c.Set 1 (c.Const 0)) (c.Then (c.Set 6 (c.Address (root.Global name_g 1) c.Here)) (c.Then (c.Store (root.Temp 6) c.Here (c.Const 4)) (c.Then (c.Load 0 (root.Temp 6) c.Here) (c.Then (c.Set 0 (c.Binary two.Div kind.Signed (c.Const 2) (c.Const 1))) (c.Then (c.Call None name_put ((c.Address (root.Global name_x 1) c.Here) ∷ (c.Temp 1) ∷ [])) (c.Then (c.Set 0 (c.Binary two.Mul kind.Signed (c.Const 2) (c.Const 2))) (c.Then (c.Set 2 (c.Const 0)) (c.Then (c.Loop (c.Then (c.If (c.Nonzero kind.Signed (c.Binary two.Lt kind.Signed (c.Temp 2) (c.Const 1))) (c.Then (c.Store (root.Global name_arr 4) (c.Index kind.Signed (c.Temp 2) c.Here) (c.Temp 2)) (c.Then (c.Set 2 (c.Binary two.Add kind.Signed (c.Temp 2) (c.Const 1))) (c.Then c.Continue c.End))) (c.Then c.Break c.End)) c.End)) (c.Then (c.If (c.Nonzero kind.Signed (c.Binary two.Gt kind.Signed (c.Temp 2) (c.Temp 1))) (c.Then (c.Set 6 (c.Address (root.Global name_g 1) c.Here)) (c.Then (c.Store (root.Temp 6) c.Here (c.Const 4)) (c.Then (c.Load 0 (root.Temp 6) c.Here) c.End))) c.End) (c.Then (c.Return (Some (c.Temp 0))) c.End)))))))))))) }) (s.Then 1 (s.Set ([]) ([])) s.NoBlock (s.Then 2 (s.Set ([]) ([])) s.NoBlock (s.Then 3 (s.Set ([]) ([])) s.NoBlock (s.Then 4 (s.Bounds 0 None ([])) s.NoBlock (s.Then 5 (s.Bounds 2 None ([])) s.NoBlock (s.Then 6 (s.Store 1 ([]) ([])) s.NoBlock (s.Then 7 (s.Load 1 ([]) ([])) s.NoBlock (s.Then 8 (s.Set ([]) ([])) s.NoBlock (s.Then 9 (s.Block 0 (record { opened = []; facts = ([]); locals = ((name_s, (Of unary.Vi (Number (pos 2)))) ∷ (name_t, (Of unary.Vi (Number (pos 0)))) ∷ (name_q1, (Global name_g)) ∷ []); items = ((Data (Number (pos 64)) (Global name_arr) (Of2 binary.Cons (Of unary.Vi (Number (pos 1))) (Of2 binary.Cons (Of unary.Vi (Number (pos 2))) (Of2 binary.Cons (Of unary.Vi (Number (pos 0))) (Of2 binary.Cons (Of unary.Vi (Number (pos 0))) Nil))))) ∷ (Data (Number (pos 64)) (Global name_g) (Of2 binary.Cons (Of unary.Vi (Number (pos 4))) Nil)) ∷ (Data (Number (pos 64)) (Global name_x) (Of2 binary.Cons (Of unary.Vi (Number (pos 3))) Nil)) ∷ []) }) ([]) ([])) (s.WithBlock (s.Then 10 (s.Fall ([]) ([])) s.NoBlock s.End) s.NoBlock) (s.Then 11 (s.Call ((Global name_x) ∷ (Of unary.Vi (Number (pos 0))) ∷ (Of unary.Vi (Number (pos 3))) ∷ []) ([]) ([]) ([])) s.NoBlock (s.Then 12 (s.Set ([]) ([])) s.NoBlock (s.Then 13 (s.Set ([]) ([])) s.NoBlock (s.Then 14 (s.While (record { opened = (sort.Int ∷ sort.List ∷ []); facts = ((Rel relation.Le (Number (pos 0)) (Var 0 sort.Int)) ∷ (Rel relation.Le (Var 0 sort.Int) (Number (pos 1))) ∷ (Rel relation.Eq (Of unary.Len (Var 1 sort.List)) (Number (pos 4))) ∷ []); locals = ((name_s, (Of unary.Vi (Number (pos 4)))) ∷ (name_t, (Of unary.Vi (Number (pos 0)))) ∷ (name_i, (Of unary.Vi (Var 0 sort.Int))) ∷ (name_q1, (Global name_g)) ∷ []); items = ((Data (Number (pos 64)) (Global name_arr) (Var 1 sort.List)) ∷ (Data (Number (pos 64)) (Global name_g) (Of2 binary.Cons (Of unary.Vi (Number (pos 4))) Nil)) ∷ (Data (Number (pos 64)) (Global name_x) (Of2 binary.Cons (Of unary.Vi (Number (pos 0))) Nil)) ∷ []) }) (record { opened = (sort.Int ∷ sort.List ∷ []); facts = ((Rel relation.Le (Number (pos 0)) (Var 0 sort.Int)) ∷ (Rel relation.Le (Var 0 sort.Int) (Number (pos 1))) ∷ (Rel relation.Eq (Of unary.Len (Var 1 sort.List)) (Number (pos 4))) ∷ (Rel relation.Le (Number (pos 1)) (Var 0 sort.Int)) ∷ []); locals = ((name_s, (Of unary.Vi (Number (pos 4)))) ∷ (name_t, (Of unary.Vi (Number (pos 0)))) ∷ (name_i, (Of unary.Vi (Var 0 sort.Int))) ∷ (name_q1, (Global name_g)) ∷ []); items = ((Data (Number (pos 64)) (Global name_arr) (Var 1 sort.List)) ∷ (Data (Number (pos 64)) (Global name_g) (Of2 binary.Cons (Of unary.Vi (Number (pos 4))) Nil)) ∷ (Data (Number (pos 64)) (Global name_x) (Of2 binary.Cons (Of unary.Vi (Number (pos 0))) Nil)) ∷ []) }) (name_k3 ∷ name_k4 ∷ []) ([]) (name_k1 ∷ name_k2 ∷ [])) (s.WithBlock (s.Then 15 (s.Meet ((Number (pos 0)) ∷ (Of2 binary.Cons (Of unary.Vi (Number (pos 1))) (Of2 binary.Cons (Of unary.Vi (Number (pos 2))) (Of2 binary.Cons (Of unary.Vi (Number (pos 0))) (Of2 binary.Cons (Of unary.Vi (Number (pos 0))) Nil)))) ∷ []) ([])) s.NoBlock s.End) (s.WithBlock (s.Then 16 (s.If ([]) ((record { lines = ((line.Comb (((pos 1), 4) ∷ ((pos 1), 8) ∷ [])) ∷ []) }) ∷ (record { lines = ((line.Comb (((pos 1), 5) ∷ ((pos 1), 8) ∷ [])) ∷ []) }) ∷ []) ([]) ([])) (s.WithBlock (s.Then 17 (s.Store 0 ([]) ((record { lines = ((line.Comb (((pos 1), 4) ∷ ((pos 1), 9) ∷ [])) ∷ []) }) ∷ (record { lines = ((line.Comb (((pos 1), 5) ∷ ((pos 1), 9) ∷ [])) ∷ []) }) ∷ (record { lines = ((line.Comb (((pos 1), 5) ∷ ((pos 1), 7) ∷ ((pos 1), 9) ∷ [])) ∷ []) }) ∷ [])) s.NoBlock (s.Then 18 (s.Law name_len_upd ((Named name_k2) ∷ (Named name_k1) ∷ (Of unary.Vi (Named name_k1)) ∷ []) ([])) s.NoBlock (s.Then 19 (s.Block 1 (record { opened = []; facts = ([]); locals = ((name_s, (Of unary.Vi (Number (pos 4)))) ∷ (name_t, (Of unary.Vi (Number (pos 0)))) ∷ (name_i, (Of unary.Vi (Of2 binary.Add (Named name_k1) (Number (pos 1))))) ∷ (name_q1, (Global name_g)) ∷ []); items = ((Data (Number (pos 64)) (Global name_arr) (Of3 ternary.Upd (Named name_k2) (Named name_k1) (Of unary.Vi (Named name_k1)))) ∷ (Data (Number (pos 64)) (Global name_g) (Of2 binary.Cons (Of unary.Vi (Number (pos 4))) Nil)) ∷ (Data (Number (pos 64)) (Global name_x) (Of2 binary.Cons (Of unary.Vi (Number (pos 0))) Nil)) ∷ []) }) ([]) ([])) (s.WithBlock (s.Then 20 (s.Set ([]) ((record { lines = ((line.Comb (((pos 1), 4) ∷ ((pos 1), 11) ∷ [])) ∷ []) }) ∷ (record { lines = ((line.Comb (((pos 1), 5) ∷ ((pos 1), 11) ∷ [])) ∷ []) }) ∷ (record { lines = ((line.Comb (((pos 1), 4) ∷ ((pos 1), 11) ∷ [])) ∷ []) }) ∷ (record { lines = ((line.Comb (((pos 1), 5) ∷ ((pos 1), 11) ∷ [])) ∷ []) }) ∷ [])) s.NoBlock (s.Then 21 (s.Fall ([]) ([])) s.NoBlock s.End)) s.NoBlock) (s.Then 22 (s.Continue ((Of2 binary.Add (Named name_k1) (Number (pos 1))) ∷ (Of3 ternary.Upd (Named name_k2) (Named name_k1) (Of unary.Vi (Named name_k1))) ∷ []) ((record { lines = ((line.Comb (((pos 1), 4) ∷ ((pos 1), 11) ∷ [])) ∷ []) }) ∷ (record { lines = ((line.Comb (((pos 1), 9) ∷ ((pos 1), 6) ∷ ((pos 1), 11) ∷ [])) ∷ []) }) ∷ (record { lines = ((line.Comb (((pos 1), 10) ∷ ((pos 1), 7) ∷ ((pos 1), 11) ∷ [])) ∷ []) }) ∷ [])) s.NoBlock s.End)))) (s.WithBlock (s.Then 23 (s.Break ((Named name_k1) ∷ (Named name_k2) ∷ []) ([])) s.NoBlock s.End) s.NoBlock)) s.End) s.NoBlock)) (s.Then 24 (s.If ([]) ((record { lines = ((line.Comb (((pos 1), 4) ∷ ((pos 1), 9) ∷ [])) ∷ []) }) ∷ (record { lines = ((line.Comb (((pos 1), 5) ∷ ((pos 1), 9) ∷ [])) ∷ []) }) ∷ []) ([]) ([])) (s.WithBlock (s.Then 25 (s.Block 0 (record { opened = []; facts = ([]); locals = ((name_s, (Of unary.Vi (Number (pos 4)))) ∷ (name_t, (Of unary.Vi (Number (pos 0)))) ∷ (name_i, (Of unary.Vi (Named name_k3))) ∷ (name_q1, (Global name_g)) ∷ []); items = ((Data (Number (pos 64)) (Global name_arr) (Named name_k4)) ∷ (Data (Number (pos 64)) (Global name_g) (Of2 binary.Cons (Of unary.Vi (Number (pos 4))) Nil)) ∷ (Data (Number (pos 64)) (Global name_x) (Of2 binary.Cons (Of unary.Vi (Number (pos 0))) Nil)) ∷ []) }) ([]) ([])) (s.WithBlock (s.Then 26 (s.Fall ([]) ([])) s.NoBlock s.End) s.NoBlock) (s.Then 27 (s.Set ([]) ([])) s.NoBlock (s.Then 28 (s.Store 1 ([]) ([])) s.NoBlock (s.Then 29 (s.Share 0 (Number (pos 1)) ([])) s.NoBlock (s.Then 30 (s.Load 0 ([]) ([])) s.NoBlock (s.Then 31 (s.Share 0 (Number (pos 1)) ([])) s.NoBlock (s.Then 32 (s.Unshare 4 3 ([])) s.NoBlock (s.Then 33 (s.Return ((Of2 binary.Cons (Of unary.Vi (Number (pos 0))) Nil) ∷ (Named name_k4) ∷ (Of2 binary.Cons (Of unary.Vi (Number (pos 4))) Nil) ∷ []) ([]) ([])) s.NoBlock s.End)))))))) (s.WithBlock (s.Then 34 (s.Absurd ((record { lines = ((line.Comb (((pos 1), 8) ∷ ((pos 1), 9) ∷ [])) ∷ []) }) ∷ [])) s.NoBlock s.End) s.NoBlock)) s.End)))))))))))))) ≡ (RefusedAt 6 4 1)
unfolding computing
random_965 = refl

random_966 : body_verdict (record { predicates = ([]); specs = ((record { is_void = true; name = name_put; params = (name_p ∷ name_k ∷ []); vars = ((name_v, sort.Val) ∷ (name_w, sort.Val) ∷ (name_o, sort.Val) ∷ []); pre = (record { opened = []; facts = ([]); locals = ((name_p, (Var 0 sort.Val)) ∷ (name_k, (Var 1 sort.Val)) ∷ []); items = ((Data (Number (pos 64)) (Var 0 sort.Val) (Of2 binary.Cons (Var 2 sort.Val) Nil)) ∷ []) }); post = (record { opened = []; facts = ([]); locals = []; items = ((Data (Number (pos 64)) (Var 0 sort.Val) (Of2 binary.Cons (Var 1 sort.Val) Nil)) ∷ []) }) }) ∷ (record { is_void = false; name = name_main; params = ([]); vars = []; pre = (record { opened = []; facts = ([]); locals = []; items = ((Data (Number (pos 64)) (Global name_arr) (Of2 binary.Cons (Of unary.Vi (Number (pos 1))) (Of2 binary.Cons (Of unary.Vi (Number (pos 2))) (Of2 binary.Cons (Of unary.Vi (Number (pos 0))) (Of2 binary.Cons (Of unary.Vi (Number (pos 0))) Nil))))) ∷ (Data (Number (pos 64)) (Global name_arr) (Of2 binary.Cons (Of unary.Vi (Number (pos 3))) Nil)) ∷ (Data (Number (pos 64)) (Global name_x) (Of2 binary.Cons (Of unary.Vi (Number (pos 3))) Nil)) ∷ []) }); post = (record { opened = (sort.List ∷ sort.List ∷ sort.List ∷ []); facts = ([]); locals = []; items = ((Data (Number (pos 64)) (Global name_x) (Var 1 sort.List)) ∷ (Data (Number (pos 1)) (Global name_arr) (Var 2 sort.List)) ∷ (Data (Number (pos 63)) (Global name_arr) (Var 2 sort.List)) ∷ (Data (Number (pos 64)) (Global name_g) (Var 3 sort.List)) ∷ []) }) }) ∷ []) }) (record { is_void = true; name = name_put; params = (name_p ∷ name_k ∷ []); vars = ((name_v, sort.Val) ∷ (name_w, sort.Val) ∷ (name_o, sort.Val) ∷ []); pre = (record { opened = []; facts = ([]); locals = ((name_p, (Var 0 sort.Val)) ∷ (name_k, (Var 1 sort.Val)) ∷ []); items = ((Data (Number (pos 64)) (Var 0 sort.Val) (Of2 binary.Cons (Var 2 sort.Val) Nil)) ∷ []) }); post = (record { opened = []; facts = ([]); locals = []; items = ((Data (Number (pos 64)) (Var 0 sort.Val) (Of2 binary.Cons (Var 1 sort.Val) Nil)) ∷ []) }) }) (record { temps = (name_p ∷ name_k ∷ []); body = (c.Then (c.Store (root.Temp 0) c.Here (c.Temp 1)) (c.Then (c.Return None) c.End)) }) (s.Then 1 (s.Store 0 ([]) ([])) s.NoBlock (s.Then 2 (s.Return ([]) ([]) ([])) s.NoBlock s.End)) ≡ Accepted
unfolding computing
random_966 = refl

random_967 : body_verdict (record { predicates = ([]); specs = ((record { is_void = true; name = name_put; params = (name_p ∷ name_k ∷ []); vars = ((name_v, sort.Val) ∷ (name_w, sort.Val) ∷ (name_o, sort.Val) ∷ []); pre = (record { opened = []; facts = ([]); locals = ((name_p, (Var 0 sort.Val)) ∷ (name_k, (Var 1 sort.Val)) ∷ []); items = ((Data (Number (pos 64)) (Var 0 sort.Val) (Of2 binary.Cons (Var 2 sort.Val) Nil)) ∷ []) }); post = (record { opened = []; facts = ([]); locals = []; items = ((Data (Number (pos 64)) (Var 0 sort.Val) (Of2 binary.Cons (Var 1 sort.Val) Nil)) ∷ []) }) }) ∷ (record { is_void = false; name = name_main; params = ([]); vars = []; pre = (record { opened = []; facts = ([]); locals = []; items = ((Data (Number (pos 64)) (Global name_arr) (Of2 binary.Cons (Of unary.Vi (Number (pos 1))) (Of2 binary.Cons (Of unary.Vi (Number (pos 2))) (Of2 binary.Cons (Of unary.Vi (Number (pos 0))) (Of2 binary.Cons (Of unary.Vi (Number (pos 0))) Nil))))) ∷ (Data (Number (pos 64)) (Global name_g) (Of2 binary.Cons (Of unary.Vi (Number (pos 3))) Nil)) ∷ (Data (Number (pos 64)) (Global name_x) (Of2 binary.Cons (Of unary.Vi (Number (pos 3))) Nil)) ∷ []) }); post = (record { opened = (sort.List ∷ sort.List ∷ sort.List ∷ []); facts = ([]); locals = []; items = ((Data (Number (pos 64)) (Global name_x) (Var 1 sort.List)) ∷ (Data (Number (pos 1)) (Global name_arr) (Var 2 sort.List)) ∷ (Data (Number (pos 63)) (Global name_arr) (Var 2 sort.List)) ∷ (Data (Number (pos 64)) (Global name_g) (Var 3 sort.List)) ∷ []) }) }) ∷ []) }) (record { is_void = false; name = name_main; params = ([]); vars = []; pre = (record { opened = []; facts = ([]); locals = []; items = ((Data (Number (pos 64)) (Global name_arr) (Of2 binary.Cons (Of unary.Vi (Number (pos 1))) (Of2 binary.Cons (Of unary.Vi (Number (pos 2))) (Of2 binary.Cons (Of unary.Vi (Number (pos 0))) (Of2 binary.Cons (Of unary.Vi (Number (pos 0))) Nil))))) ∷ (Data (Number (pos 64)) (Global name_g) (Of2 binary.Cons (Of unary.Vi (Number (pos 3))) Nil)) ∷ (Data (Number (pos 64)) (Global name_x) (Of2 binary.Cons (Of unary.Vi (Number (pos 3))) Nil)) ∷ []) }); post = (record { opened = (sort.List ∷ sort.List ∷ sort.List ∷ []); facts = ([]); locals = []; items = ((Data (Number (pos 64)) (Global name_x) (Var 1 sort.List)) ∷ (Data (Number (pos 1)) (Global name_arr) (Var 2 sort.List)) ∷ (Data (Number (pos 63)) (Global name_arr) (Var 2 sort.List)) ∷ (Data (Number (pos 64)) (Global name_g) (Var 3 sort.List)) ∷ []) }) }) (record { temps = (name_s ∷ name_t ∷ name_i ∷ name_x1 ∷ name_d0 ∷ name_p1 ∷ name_q1 ∷ []); body = (c.Then (c.Set 0 (c.Const 2)) (c.Then (c.Set 1 (c.Const 0)) (c.Then (c.Set 6 (c.Address (root.Global name_g 1) c.Here)) (c.Then (c.Store (root.Temp 6) c.Here (c.Const 4)) (c.Then (c.Load 0 (root.Temp 6) c.Here) (c.Then (c.Set 0 (c.Binary two.Div kind.Signed (c.Const 2) (c.Const 1))) (c.Then (c.Call None name_put ((c.Address (root.Global name_x 1) c.Here) ∷ (c.Temp 1) ∷ [])) (c.Then (c.Set 0 (c.Binary two.Mul kind.Signed (c.Const 2) (c.Const 2))) (c.Then (c.Set 2 (c.Const 0)) (c.Then (c.Loop (c.Then (c.If (c.Nonzero kind.Signed (c.Binary two.Lt kind.Signed (c.Temp 2) (c.Const 1))) (c.Then (c.Store (root.Global name_arr 4) (c.Index kind.Signed (c.Temp 2) c.Here) (c.Temp 2)) (c.Then (c.Set 2 (c.Binary two.Add kind.Signed (c.Temp 2) (c.Const 1))) (c.Then c.Continue c.End))) (c.Then c.Break c.End)) c.End)) (c.Then (c.If (c.Nonzero kind.Signed (c.Binary two.Gt kind.Signed (c.Temp 2) (c.Temp 1))) (c.Then (c.Set 6 (c.Address (root.Global name_g 1) c.Here)) (c.Then (c.Store (root.Temp 6) c.Here (c.Const 4)) (c.Then (c.Load 0 (root.Temp 6) c.Here) c.End))) c.End) (c.Then (c.Return (Some (c.Temp 0))) c.End)))))))))))) }) (s.Then 1 (s.Set ([]) ([])) s.NoBlock (s.Then 2 (s.Set ([]) ([])) s.NoBlock (s.Then 3 (s.Set ([]) ([])) s.NoBlock (s.Then 4 (s.Bounds 0 None ([])) s.NoBlock (s.Then 5 (s.Bounds 2 None ([])) s.NoBlock (s.Then 6 (s.Store 1 ([]) ([])) s.NoBlock (s.Then 7 (s.Load 1 ([]) ([])) s.NoBlock (s.Then 8 (s.Set ([]) ([])) s.NoBlock (s.Then 9 (s.Block 0 (record { opened = []; facts = ([]); locals = ((name_s, (Of unary.Vi (Number (pos 2)))) ∷ (name_t, (Of unary.Vi (Number (pos 0)))) ∷ (name_q1, (Global name_g)) ∷ []); items = ((Data (Number (pos 64)) (Global name_arr) (Of2 binary.Cons (Of unary.Vi (Number (pos 1))) (Of2 binary.Cons (Of unary.Vi (Number (pos 2))) (Of2 binary.Cons (Of unary.Vi (Number (pos 0))) (Of2 binary.Cons (Of unary.Vi (Number (pos 0))) Nil))))) ∷ (Data (Number (pos 64)) (Global name_g) (Of2 binary.Cons (Of unary.Vi (Number (pos 4))) Nil)) ∷ (Data (Number (pos 64)) (Global name_x) (Of2 binary.Cons (Of unary.Vi (Number (pos 3))) Nil)) ∷ []) }) ([]) ([])) (s.WithBlock (s.Then 10 (s.Fall ([]) ([])) s.NoBlock s.End) s.NoBlock) (s.Then 11 (s.Call ((Global name_x) ∷ (Of unary.Vi (Number (pos 0))) ∷ (Of unary.Vi (Number (pos 3))) ∷ []) ([]) ([]) ([])) s.NoBlock (s.Then 12 (s.Set ([]) ([])) s.NoBlock (s.Then 13 (s.Set ([]) ([])) s.NoBlock (s.Then 14 (s.If ([]) ((record { lines = ((line.Comb (((pos 1), 4) ∷ ((pos 1), 9) ∷ [])) ∷ []) }) ∷ (record { lines = ((line.Comb (((pos 1), 5) ∷ ((pos 1), 9) ∷ [])) ∷ []) }) ∷ []) ([]) ([])) (s.WithBlock (s.Then 15 (s.Block 0 (record { opened = []; facts = ([]); locals = ((name_s, (Of unary.Vi (Number (pos 4)))) ∷ (name_t, (Of unary.Vi (Number (pos 0)))) ∷ (name_i, (Of unary.Vi (Named name_k3))) ∷ (name_q1, (Global name_g)) ∷ []); items = ((Data (Number (pos 64)) (Global name_arr) (Named name_k4)) ∷ (Data (Number (pos 64)) (Global name_g) (Of2 binary.Cons (Of unary.Vi (Number (pos 4))) Nil)) ∷ (Data (Number (pos 64)) (Global name_x) (Of2 binary.Cons (Of unary.Vi (Number (pos 0))) Nil)) ∷ []) }) ([]) ([])) (s.WithBlock (s.Then 16 (s.Fall ([]) ([])) s.NoBlock s.End) s.NoBlock) (s.Then 17 (s.Set ([]) ([])) s.NoBlock (s.Then 18 (s.Store 1 ([]) ([])) s.NoBlock (s.Then 19 (s.Share 0 (Number (pos 1)) ([])) s.NoBlock (s.Then 20 (s.Load 0 ([]) ([])) s.NoBlock (s.Then 21 (s.Share 0 (Number (pos 1)) ([])) s.NoBlock (s.Then 22 (s.Unshare 4 3 ([])) s.NoBlock (s.Then 23 (s.Return ((Of2 binary.Cons (Of unary.Vi (Number (pos 0))) Nil) ∷ (Named name_k4) ∷ (Of2 binary.Cons (Of unary.Vi (Number (pos 4))) Nil) ∷ []) ([]) ([])) s.NoBlock s.End)))))))) (s.WithBlock (s.Then 24 (s.Absurd ((record { lines = ((line.Comb (((pos 1), 8) ∷ ((pos 1), 9) ∷ [])) ∷ []) }) ∷ [])) s.NoBlock s.End) s.NoBlock)) s.End))))))))))))) ≡ (RefusedAt 14 5 1)
unfolding computing
random_967 = refl

random_968 : body_verdict (record { predicates = ([]); specs = ((record { is_void = true; name = name_put; params = (name_p ∷ name_k ∷ []); vars = ((name_v, sort.Val) ∷ (name_w, sort.Val) ∷ (name_o, sort.Val) ∷ []); pre = (record { opened = []; facts = ([]); locals = ((name_p, (Var 0 sort.Val)) ∷ (name_k, (Var 1 sort.Val)) ∷ []); items = ((Data (Number (pos 64)) (Var 0 sort.Val) (Of2 binary.Cons (Var 2 sort.Val) Nil)) ∷ []) }); post = (record { opened = []; facts = ([]); locals = []; items = ((Data (Number (pos 64)) (Var 0 sort.Val) (Of2 binary.Cons (Var 1 sort.Val) Nil)) ∷ []) }) }) ∷ (record { is_void = false; name = name_main; params = ([]); vars = []; pre = (record { opened = []; facts = ([]); locals = []; items = ((Data (Number (pos 64)) (Global name_arr) (Of2 binary.Cons (Of unary.Vi (Number (pos 1))) (Of2 binary.Cons (Of unary.Vi (Number (pos 2))) (Of2 binary.Cons (Of unary.Vi (Number (pos 0))) (Of2 binary.Cons (Of unary.Vi (Number (pos 0))) Nil))))) ∷ (Data (Number (pos 64)) (Global name_g) (Of2 binary.Cons (Of unary.Vi (Number (pos 3))) Nil)) ∷ (Data (Number (pos 64)) (Global name_x) (Of2 binary.Cons (Of unary.Vi (Number (pos 3))) Nil)) ∷ []) }); post = (record { opened = (sort.List ∷ sort.List ∷ sort.List ∷ []); facts = ([]); locals = []; items = ((Data (Number (pos 64)) (Global name_x) (Var 1 sort.List)) ∷ (Data (Number (pos 1)) (Global name_arr) (Var 2 sort.List)) ∷ (Data (Number (pos 63)) (Global name_arr) (Var 2 sort.List)) ∷ (Data (Number (pos 64)) (Global name_g) (Var 3 sort.List)) ∷ []) }) }) ∷ []) }) (record { is_void = false; name = name_main; params = ([]); vars = []; pre = (record { opened = []; facts = ([]); locals = []; items = ((Data (Number (pos 64)) (Global name_arr) (Of2 binary.Cons (Of unary.Vi (Number (pos 1))) (Of2 binary.Cons (Of unary.Vi (Number (pos 2))) (Of2 binary.Cons (Of unary.Vi (Number (pos 0))) (Of2 binary.Cons (Of unary.Vi (Number (pos 0))) Nil))))) ∷ (Data (Number (pos 64)) (Global name_g) (Of2 binary.Cons (Of unary.Vi (Number (pos 3))) Nil)) ∷ (Data (Number (pos 64)) (Global name_x) (Of2 binary.Cons (Of unary.Vi (Number (pos 3))) Nil)) ∷ []) }); post = (record { opened = (sort.List ∷ sort.List ∷ sort.List ∷ []); facts = ([]); locals = []; items = ((Data (Number (pos 64)) (Global name_x) (Var 1 sort.List)) ∷ (Data (Number (pos 1)) (Global name_arr) (Var 2 sort.List)) ∷ (Data (Number (pos 63)) (Global name_arr) (Var 2 sort.List)) ∷ (Data (Number (pos 64)) (Global name_g) (Var 3 sort.List)) ∷ []) }) }) (record { temps = (name_s ∷ name_t ∷ name_i ∷ name_x1 ∷ name_d0 ∷ name_p1 ∷ name_q1 ∷ []); body = (c.Then (c.Set 0 (c.Const 2)) (c.Then (c.Set 1 (c.Const 0)) (c.Then (c.Set 6 (c.Address (root.Global name_g 1) c.Here)) (c.Then (c.Store (root.Temp 6) c.Here (c.Const 4)) (c.Then (c.Load 0 (root.Temp 6) c.Here) (c.Then (c.Set 0 (c.Binary two.Div kind.Signed (c.Const 2) (c.Const 1))) (c.Then (c.Call None name_put ((c.Address (root.Global name_x 1) c.Here) ∷ (c.Temp 1) ∷ [])) (c.Then (c.Set 0 (c.Binary two.Mul kind.Signed (c.Const 2) (c.Const 2))) (c.Then (c.Set 2 (c.Const 0)) (c.Then (c.Loop (c.Then (c.If (c.Nonzero kind.Signed (c.Binary two.Lt kind.Signed (c.Temp 2) (c.Const 1))) (c.Then (c.Store (root.Global name_arr 4) (c.Index kind.Signed (c.Temp 2) c.Here) (c.Temp 2)) (c.Then (c.Set 2 (c.Binary two.Add kind.Signed (c.Temp 2) (c.Const 1))) (c.Then c.Continue c.End))) (c.Then c.Break c.End)) c.End)) (c.Then (c.If (c.Nonzero kind.Signed (c.Binary two.Gt kind.Signed (c.Temp 2) (c.Temp 1))) (c.Then (c.Set 6 (c.Address (root.Global name_g 1) c.Here)) (c.Then (c.Store (root.Temp 6) c.Here (c.Const 4)) (c.Then (c.Load 0 (root.Temp 6) c.Here) c.End))) c.End) (c.Then (c.Return (Some (c.Temp 0))) c.End)))))))))))) }) (s.Then 1 (s.Set ([]) ([])) s.NoBlock (s.Then 2 (s.Set ([]) ([])) s.NoBlock (s.Then 3 (s.Bounds 2 None ([])) s.NoBlock (s.Then 4 (s.Bounds 0 None ([])) s.NoBlock (s.Then 5 (s.Set ([]) ([])) s.NoBlock (s.Then 6 (s.Store 1 ([]) ([])) s.NoBlock (s.Then 7 (s.Load 1 ([]) ([])) s.NoBlock (s.Then 8 (s.Set ([]) ([])) s.NoBlock (s.Then 9 (s.Block 0 (record { opened = []; facts = ([]); locals = ((name_s, (Of unary.Vi (Number (pos 2)))) ∷ (name_t, (Of unary.Vi (Number (pos 0)))) ∷ (name_q1, (Global name_g)) ∷ []); items = ((Data (Number (pos 64)) (Global name_arr) (Of2 binary.Cons (Of unary.Vi (Number (pos 1))) (Of2 binary.Cons (Of unary.Vi (Number (pos 2))) (Of2 binary.Cons (Of unary.Vi (Number (pos 0))) (Of2 binary.Cons (Of unary.Vi (Number (pos 0))) Nil))))) ∷ (Data (Number (pos 64)) (Global name_g) (Of2 binary.Cons (Of unary.Vi (Number (pos 4))) Nil)) ∷ (Data (Number (pos 64)) (Global name_x) (Of2 binary.Cons (Of unary.Vi (Number (pos 3))) Nil)) ∷ []) }) ([]) ([])) (s.WithBlock (s.Then 10 (s.Fall ([]) ([])) s.NoBlock s.End) s.NoBlock) (s.Then 11 (s.Call ((Global name_x) ∷ (Of unary.Vi (Number (pos 0))) ∷ (Of unary.Vi (Number (pos 3))) ∷ []) ([]) ([]) ([])) s.NoBlock (s.Then 12 (s.Set ([]) ([])) s.NoBlock (s.Then 13 (s.Set ([]) ([])) s.NoBlock (s.Then 14 (s.While (record { opened = (sort.Int ∷ sort.List ∷ []); facts = ((Rel relation.Le (Number (pos 0)) (Var 0 sort.Int)) ∷ (Rel relation.Le (Var 0 sort.Int) (Number (pos 1))) ∷ (Rel relation.Eq (Of unary.Len (Var 1 sort.List)) (Number (pos 4))) ∷ []); locals = ((name_s, (Of unary.Vi (Number (pos 4)))) ∷ (name_t, (Of unary.Vi (Number (pos 0)))) ∷ (name_i, (Of unary.Vi (Var 0 sort.Int))) ∷ (name_q1, (Global name_g)) ∷ []); items = ((Data (Number (pos 64)) (Global name_arr) (Var 1 sort.List)) ∷ (Data (Number (pos 64)) (Global name_g) (Of2 binary.Cons (Of unary.Vi (Number (pos 4))) Nil)) ∷ (Data (Number (pos 64)) (Global name_x) (Of2 binary.Cons (Of unary.Vi (Number (pos 0))) Nil)) ∷ []) }) (record { opened = (sort.Int ∷ sort.List ∷ []); facts = ((Rel relation.Le (Number (pos 0)) (Var 0 sort.Int)) ∷ (Rel relation.Le (Var 0 sort.Int) (Number (pos 1))) ∷ (Rel relation.Eq (Of unary.Len (Var 1 sort.List)) (Number (pos 4))) ∷ (Rel relation.Le (Number (pos 1)) (Var 0 sort.Int)) ∷ []); locals = ((name_s, (Of unary.Vi (Number (pos 4)))) ∷ (name_t, (Of unary.Vi (Number (pos 0)))) ∷ (name_i, (Of unary.Vi (Var 0 sort.Int))) ∷ (name_q1, (Global name_g)) ∷ []); items = ((Data (Number (pos 64)) (Global name_arr) (Var 1 sort.List)) ∷ (Data (Number (pos 64)) (Global name_g) (Of2 binary.Cons (Of unary.Vi (Number (pos 4))) Nil)) ∷ (Data (Number (pos 64)) (Global name_x) (Of2 binary.Cons (Of unary.Vi (Number (pos 0))) Nil)) ∷ []) }) (name_k3 ∷ name_k4 ∷ []) ([]) (name_k1 ∷ name_k2 ∷ [])) (s.WithBlock (s.Then 15 (s.Meet ((Number (pos 0)) ∷ (Of2 binary.Cons (Of unary.Vi (Number (pos 1))) (Of2 binary.Cons (Of unary.Vi (Number (pos 2))) (Of2 binary.Cons (Of unary.Vi (Number (pos 0))) (Of2 binary.Cons (Of unary.Vi (Number (pos 0))) Nil)))) ∷ []) ([])) s.NoBlock s.End) (s.WithBlock (s.Then 16 (s.If ([]) ((record { lines = ((line.Comb (((pos 1), 4) ∷ ((pos 1), 8) ∷ [])) ∷ []) }) ∷ (record { lines = ((line.Comb (((pos 1), 5) ∷ ((pos 1), 8) ∷ [])) ∷ []) }) ∷ []) ([]) ([])) (s.WithBlock (s.Then 17 (s.Store 0 ([]) ((record { lines = ((line.Comb (((pos 1), 4) ∷ ((pos 1), 9) ∷ [])) ∷ []) }) ∷ (record { lines = ((line.Comb (((pos 1), 5) ∷ ((pos 1), 9) ∷ [])) ∷ []) }) ∷ (record { lines = ((line.Comb (((pos 1), 5) ∷ ((pos 1), 7) ∷ ((pos 1), 9) ∷ [])) ∷ []) }) ∷ [])) s.NoBlock (s.Then 18 (s.Law name_len_upd ((Named name_k2) ∷ (Named name_k1) ∷ (Of unary.Vi (Named name_k1)) ∷ []) ([])) s.NoBlock (s.Then 19 (s.Block 1 (record { opened = []; facts = ([]); locals = ((name_s, (Of unary.Vi (Number (pos 4)))) ∷ (name_t, (Of unary.Vi (Number (pos 0)))) ∷ (name_i, (Of unary.Vi (Of2 binary.Add (Named name_k1) (Number (pos 1))))) ∷ (name_q1, (Global name_g)) ∷ []); items = ((Data (Number (pos 64)) (Global name_arr) (Of3 ternary.Upd (Named name_k2) (Named name_k1) (Of unary.Vi (Named name_k1)))) ∷ (Data (Number (pos 64)) (Global name_g) (Of2 binary.Cons (Of unary.Vi (Number (pos 4))) Nil)) ∷ (Data (Number (pos 64)) (Global name_x) (Of2 binary.Cons (Of unary.Vi (Number (pos 0))) Nil)) ∷ []) }) ([]) ([])) (s.WithBlock (s.Then 20 (s.Set ([]) ((record { lines = ((line.Comb (((pos 1), 4) ∷ ((pos 1), 11) ∷ [])) ∷ []) }) ∷ (record { lines = ((line.Comb (((pos 1), 5) ∷ ((pos 1), 11) ∷ [])) ∷ []) }) ∷ (record { lines = ((line.Comb (((pos 1), 4) ∷ ((pos 1), 11) ∷ [])) ∷ []) }) ∷ (record { lines = ((line.Comb (((pos 1), 5) ∷ ((pos 1), 11) ∷ [])) ∷ []) }) ∷ [])) s.NoBlock (s.Then 21 (s.Fall ([]) ([])) s.NoBlock s.End)) s.NoBlock) (s.Then 22 (s.Continue ((Of2 binary.Add (Named name_k1) (Number (pos 1))) ∷ (Of3 ternary.Upd (Named name_k2) (Named name_k1) (Of unary.Vi (Named name_k1))) ∷ []) ((record { lines = ((line.Comb (((pos 1), 4) ∷ ((pos 1), 11) ∷ [])) ∷ []) }) ∷ (record { lines = ((line.Comb (((pos 1), 9) ∷ ((pos 1), 6) ∷ ((pos 1), 11) ∷ [])) ∷ []) }) ∷ (record { lines = ((line.Comb (((pos 1), 10) ∷ ((pos 1), 7) ∷ ((pos 1), 11) ∷ [])) ∷ []) }) ∷ [])) s.NoBlock s.End)))) (s.WithBlock (s.Then 23 (s.Break ((Named name_k1) ∷ (Named name_k2) ∷ []) ([])) s.NoBlock s.End) s.NoBlock)) s.End) s.NoBlock)) (s.Then 24 (s.If ([]) ((record { lines = ((line.Comb (((pos 1), 4) ∷ ((pos 1), 9) ∷ [])) ∷ []) }) ∷ (record { lines = ((line.Comb (((pos 1), 5) ∷ ((pos 1), 9) ∷ [])) ∷ []) }) ∷ []) ([]) ([])) (s.WithBlock (s.Then 25 (s.Block 0 (record { opened = []; facts = ([]); locals = ((name_s, (Of unary.Vi (Number (pos 4)))) ∷ (name_t, (Of unary.Vi (Number (pos 0)))) ∷ (name_i, (Of unary.Vi (Named name_k3))) ∷ (name_q1, (Global name_g)) ∷ []); items = ((Data (Number (pos 64)) (Global name_arr) (Named name_k4)) ∷ (Data (Number (pos 64)) (Global name_g) (Of2 binary.Cons (Of unary.Vi (Number (pos 4))) Nil)) ∷ (Data (Number (pos 64)) (Global name_x) (Of2 binary.Cons (Of unary.Vi (Number (pos 0))) Nil)) ∷ []) }) ([]) ([])) (s.WithBlock (s.Then 26 (s.Fall ([]) ([])) s.NoBlock s.End) s.NoBlock) (s.Then 27 (s.Set ([]) ([])) s.NoBlock (s.Then 28 (s.Store 1 ([]) ([])) s.NoBlock (s.Then 29 (s.Share 0 (Number (pos 1)) ([])) s.NoBlock (s.Then 30 (s.Load 0 ([]) ([])) s.NoBlock (s.Then 31 (s.Share 0 (Number (pos 1)) ([])) s.NoBlock (s.Then 32 (s.Unshare 4 3 ([])) s.NoBlock (s.Then 33 (s.Return ((Of2 binary.Cons (Of unary.Vi (Number (pos 0))) Nil) ∷ (Named name_k4) ∷ (Of2 binary.Cons (Of unary.Vi (Number (pos 4))) Nil) ∷ []) ([]) ([])) s.NoBlock s.End)))))))) (s.WithBlock (s.Then 34 (s.Absurd ((record { lines = ((line.Comb (((pos 1), 8) ∷ ((pos 1), 9) ∷ [])) ∷ []) }) ∷ [])) s.NoBlock s.End) s.NoBlock)) s.End)))))))))))))) ≡ Accepted
unfolding computing
random_968 = refl

random_969 : body_verdict (record { predicates = ([]); specs = ((record { is_void = true; name = name_put; params = (name_p ∷ name_k ∷ []); vars = ((name_v, sort.Val) ∷ (name_w, sort.Val) ∷ (name_o, sort.Val) ∷ []); pre = (record { opened = []; facts = ([]); locals = ((name_p, (Var 0 sort.Val)) ∷ (name_k, (Var 1 sort.Val)) ∷ []); items = ((Data (Number (pos 64)) (Var 0 sort.Val) (Of2 binary.Cons (Var 2 sort.Val) Nil)) ∷ []) }); post = (record { opened = []; facts = ([]); locals = []; items = ((Data (Number (pos 64)) (Var 0 sort.Val) (Of2 binary.Cons (Var 1 sort.Val) Nil)) ∷ []) }) }) ∷ (record { is_void = false; name = name_main; params = ([]); vars = []; pre = (record { opened = []; facts = ([]); locals = []; items = ((Data (Number (pos 64)) (Global name_arr) (Of2 binary.Cons (Of unary.Vi (Number (pos 1))) (Of2 binary.Cons (Of unary.Vi (Number (pos 2))) (Of2 binary.Cons (Of unary.Vi (Number (pos 0))) (Of2 binary.Cons (Of unary.Vi (Number (pos 0))) Nil))))) ∷ (Data (Number (pos 64)) (Global name_g) (Of2 binary.Cons (Of unary.Vi (Number (pos 3))) Nil)) ∷ (Data (Number (pos 64)) (Global name_x) (Of2 binary.Cons (Of unary.Vi (Number (pos 3))) Nil)) ∷ []) }); post = (record { opened = (sort.List ∷ sort.List ∷ sort.List ∷ []); facts = ([]); locals = []; items = ((Data (Number (pos 64)) (Global name_x) (Var 1 sort.List)) ∷ (Data (Number (pos 1)) (Global name_arr) (Var 2 sort.List)) ∷ (Data (Number (pos 63)) (Global name_arr) (Var 2 sort.List)) ∷ (Data (Number (pos 64)) (Global name_g) (Var 3 sort.List)) ∷ []) }) }) ∷ []) }) (record { is_void = false; name = name_main; params = ([]); vars = []; pre = (record { opened = []; facts = ([]); locals = []; items = ((Data (Number (pos 64)) (Global name_arr) (Of2 binary.Cons (Of unary.Vi (Number (pos 1))) (Of2 binary.Cons (Of unary.Vi (Number (pos 2))) (Of2 binary.Cons (Of unary.Vi (Number (pos 0))) (Of2 binary.Cons (Of unary.Vi (Number (pos 0))) Nil))))) ∷ (Data (Number (pos 64)) (Global name_g) (Of2 binary.Cons (Of unary.Vi (Number (pos 3))) Nil)) ∷ (Data (Number (pos 64)) (Global name_x) (Of2 binary.Cons (Of unary.Vi (Number (pos 3))) Nil)) ∷ []) }); post = (record { opened = (sort.List ∷ sort.List ∷ sort.List ∷ []); facts = ([]); locals = []; items = ((Data (Number (pos 64)) (Global name_x) (Var 1 sort.List)) ∷ (Data (Number (pos 1)) (Global name_arr) (Var 2 sort.List)) ∷ (Data (Number (pos 63)) (Global name_arr) (Var 2 sort.List)) ∷ (Data (Number (pos 64)) (Global name_g) (Var 3 sort.List)) ∷ []) }) }) (record { temps = (name_s ∷ name_t ∷ name_i ∷ name_x1 ∷ name_d0 ∷ name_p1 ∷ name_q1 ∷ []); body = (c.Then (c.Set 0 (c.Const 2)) (c.Then (c.Set 1 (c.Const 0)) (c.Then (c.Set 6 (c.Address (root.Global name_g 1) c.Here)) (c.Then (c.Store (root.Temp 6) c.Here (c.Const 4)) (c.Then (c.Load 0 (root.Temp 6) c.Here) (c.Then (c.Set 0 (c.Binary two.Div kind.Signed (c.Const 2) (c.Const 1))) (c.Then (c.Call None name_put ((c.Address (root.Global name_x 1) c.Here) ∷ (c.Temp 1) ∷ [])) (c.Then (c.Set 0 (c.Binary two.Mul kind.Signed (c.Const 2) (c.Const 2))) (c.Then (c.Set 2 (c.Const 0)) (c.Then (c.Loop (c.Then (c.If (c.Nonzero kind.Signed (c.Binary two.Lt kind.Signed (c.Temp 2) (c.Const 1))) (c.Then (c.Store (root.Global name_arr 4) (c.Index kind.Signed (c.Temp 2) c.Here) (c.Temp 2)) (c.Then (c.Set 2 (c.Binary two.Add kind.Signed (c.Temp 2) (c.Const 1))) (c.Then c.Continue c.End))) (c.Then c.Break c.End)) c.End)) (c.Then (c.If (c.Nonzero kind.Signed (c.Binary two.Gt kind.Signed (c.Temp 2) (c.Temp 1))) (c.Then (c.Set 6 (c.Address (root.Global name_g 1) c.Here)) (c.Then (c.Store (root.Temp 6) c.Here (c.Const 4)) (c.Then (c.Load 0 (root.Temp 6) c.Here) c.End))) c.End) (c.Then (c.Return (Some (c.Temp 0))) c.End)))))))))))) }) (s.Then 1 (s.Set ([]) ([])) s.NoBlock (s.Then 2 (s.Set ([]) ([])) s.NoBlock (s.Then 3 (s.Set ([]) ([])) s.NoBlock (s.Then 4 (s.Bounds 0 None ([])) s.NoBlock (s.Then 5 (s.Bounds 2 None ([])) s.NoBlock (s.Then 6 (s.Store 1 ([]) ([])) s.NoBlock (s.Then 7 (s.Load 1 ([]) ([])) s.NoBlock (s.Then 8 (s.Set ([]) ([])) s.NoBlock (s.Then 9 (s.Block 0 (record { opened = []; facts = ([]); locals = ((name_s, (Of unary.Vi (Number (pos 2)))) ∷ (name_t, (Of unary.Vi (Number (pos 0)))) ∷ (name_q1, (Global name_g)) ∷ []); items = ((Data (Number (pos 64)) (Global name_arr) (Of2 binary.Cons (Of unary.Vi (Number (pos 1))) (Of2 binary.Cons (Of unary.Vi (Number (pos 2))) (Of2 binary.Cons (Of unary.Vi (Number (pos 0))) (Of2 binary.Cons (Of unary.Vi (Number (pos 0))) Nil))))) ∷ (Data (Number (pos 64)) (Global name_g) (Of2 binary.Cons (Of unary.Vi (Number (pos 4))) Nil)) ∷ (Data (Number (pos 64)) (Global name_x) (Of2 binary.Cons (Of unary.Vi (Number (pos 3))) Nil)) ∷ []) }) ([]) ([])) (s.WithBlock (s.Then 10 (s.Fall ([]) ([])) s.NoBlock s.End) s.NoBlock) (s.Then 11 (s.Call ((Global name_x) ∷ (Of unary.Vi (Number (pos 0))) ∷ (Of unary.Vi (Number (pos 3))) ∷ []) ([]) ([]) ([])) s.NoBlock (s.Then 12 (s.Set ([]) ([])) s.NoBlock (s.Then 13 (s.Set ([]) ([])) s.NoBlock (s.Then 14 (s.While (record { opened = (sort.Int ∷ sort.List ∷ []); facts = ((Rel relation.Le (Number (pos 0)) (Var 0 sort.Int)) ∷ (Rel relation.Le (Var 0 sort.Int) (Number (pos 1))) ∷ (Rel relation.Eq (Of unary.Len (Var 1 sort.List)) (Number (pos 4))) ∷ []); locals = ((name_s, (Of unary.Vi (Number (pos 4)))) ∷ (name_t, (Of unary.Vi (Number (pos 0)))) ∷ (name_i, (Of unary.Vi (Var 0 sort.Int))) ∷ (name_q1, (Global name_g)) ∷ []); items = ((Data (Number (pos 64)) (Global name_arr) (Var 1 sort.List)) ∷ (Data (Number (pos 64)) (Global name_g) (Of2 binary.Cons (Of unary.Vi (Number (pos 4))) Nil)) ∷ (Data (Number (pos 64)) (Global name_x) (Of2 binary.Cons (Of unary.Vi (Number (pos 0))) Nil)) ∷ []) }) (record { opened = (sort.Int ∷ sort.List ∷ []); facts = ((Rel relation.Le (Number (pos 0)) (Var 0 sort.Int)) ∷ (Rel relation.Le (Var 0 sort.Int) (Number (pos 1))) ∷ (Rel relation.Eq (Of unary.Len (Var 1 sort.List)) (Number (pos 4))) ∷ (Rel relation.Le (Number (pos 1)) (Var 0 sort.Int)) ∷ []); locals = ((name_s, (Of unary.Vi (Number (pos 4)))) ∷ (name_t, (Of unary.Vi (Number (pos 0)))) ∷ (name_i, (Of unary.Vi (Var 0 sort.Int))) ∷ (name_q1, (Global name_g)) ∷ []); items = ((Data (Number (pos 64)) (Global name_arr) (Var 1 sort.List)) ∷ (Data (Number (pos 64)) (Global name_g) (Of2 binary.Cons (Of unary.Vi (Number (pos 4))) Nil)) ∷ (Data (Number (pos 64)) (Global name_x) (Of2 binary.Cons (Of unary.Vi (Number (pos 0))) Nil)) ∷ []) }) (name_k3 ∷ name_k4 ∷ []) ([]) (name_k1 ∷ name_k2 ∷ [])) (s.WithBlock (s.Then 15 (s.Meet ((Number (pos 0)) ∷ (Of2 binary.Cons (Of unary.Vi (Number (pos 1))) (Of2 binary.Cons (Of unary.Vi (Number (pos 2))) (Of2 binary.Cons (Of unary.Vi (Number (pos 0))) (Of2 binary.Cons (Of unary.Vi (Number (pos 0))) Nil)))) ∷ []) ([])) s.NoBlock s.End) (s.WithBlock (s.Then 16 (s.If ([]) ((record { lines = ((line.Comb (((pos 1), 4) ∷ ((pos 1), 8) ∷ [])) ∷ []) }) ∷ (record { lines = ((line.Comb (((pos 1), 5) ∷ ((pos 1), 8) ∷ [])) ∷ []) }) ∷ []) ([]) ([])) (s.WithBlock (s.Then 17 (s.Store 0 ([]) ((record { lines = ((line.Comb (((pos 1), 4) ∷ ((pos 1), 9) ∷ [])) ∷ []) }) ∷ (record { lines = ((line.Comb (((pos 1), 5) ∷ ((pos 1), 9) ∷ [])) ∷ []) }) ∷ (record { lines = ((line.Comb (((pos 1), 5) ∷ ((pos 1), 7) ∷ ((pos 1), 9) ∷ [])) ∷ []) }) ∷ [])) s.NoBlock (s.Then 18 (s.Law name_len_upd ((Named name_k2) ∷ (Named name_k1) ∷ (Of unary.Vi (Named name_k1)) ∷ []) ([])) s.NoBlock (s.Then 19 (s.Block 1 (record { opened = []; facts = ([]); locals = ((name_s, (Of unary.Vi (Number (pos 4)))) ∷ (name_t, (Of unary.Vi (Number (pos 0)))) ∷ (name_i, (Of unary.Vi (Of2 binary.Add (Named name_k1) (Number (pos 1))))) ∷ (name_q1, (Global name_g)) ∷ []); items = ((Data (Number (pos 64)) (Global name_arr) (Of3 ternary.Upd (Named name_k2) (Named name_k1) (Of unary.Vi (Named name_k1)))) ∷ (Data (Number (pos 64)) (Global name_g) (Of2 binary.Cons (Of unary.Vi (Number (pos 4))) Nil)) ∷ (Data (Number (pos 64)) (Global name_x) (Of2 binary.Cons (Of unary.Vi (Number (pos 0))) Nil)) ∷ []) }) ([]) ([])) (s.WithBlock (s.Then 20 (s.Set ([]) ((record { lines = ((line.Comb (((pos 1), 4) ∷ ((pos 1), 11) ∷ [])) ∷ []) }) ∷ (record { lines = ((line.Comb (((pos 1), 5) ∷ ((pos 1), 11) ∷ [])) ∷ []) }) ∷ (record { lines = ((line.Comb (((pos 1), 4) ∷ ((pos 1), 11) ∷ [])) ∷ []) }) ∷ (record { lines = ((line.Comb (((pos 1), 5) ∷ ((pos 1), 11) ∷ [])) ∷ []) }) ∷ [])) s.NoBlock (s.Then 21 (s.Fall ([]) ([])) s.NoBlock s.End)) s.NoBlock) (s.Then 22 (s.Continue ((Of2 binary.Add (Named name_k1) (Number (pos 1))) ∷ (Of3 ternary.Upd (Named name_k2) (Named name_k1) (Of unary.Vi (Named name_k1))) ∷ []) ((record { lines = ((line.Comb (((pos 1), 4) ∷ ((pos 1), 11) ∷ [])) ∷ []) }) ∷ (record { lines = ((line.Comb (((pos 1), 9) ∷ ((pos 1), 6) ∷ ((pos 1), 11) ∷ [])) ∷ []) }) ∷ (record { lines = ((line.Comb (((pos 1), 10) ∷ ((pos 1), 7) ∷ ((pos 1), 11) ∷ [])) ∷ []) }) ∷ [])) s.NoBlock s.End)))) (s.WithBlock (s.Then 23 (s.Break ((Named name_k1) ∷ (Named name_k2) ∷ []) ([])) s.NoBlock s.End) s.NoBlock)) s.End) s.NoBlock)) (s.Then 24 (s.If ([]) ((record { lines = ((line.Comb (((pos 1), 4) ∷ ((pos 1), 9) ∷ [])) ∷ []) }) ∷ (record { lines = ((line.Comb (((pos 1), 5) ∷ ((pos 1), 9) ∷ [])) ∷ []) }) ∷ []) ([]) ([])) (s.WithBlock (s.Then 25 (s.Block 0 (record { opened = []; facts = ([]); locals = ((name_s, (Of unary.Vi (Number (pos 4)))) ∷ (name_t, (Of unary.Vi (Number (pos 0)))) ∷ (name_i, (Of unary.Vi (Named name_k3))) ∷ (name_q1, (Global name_g)) ∷ []); items = ((Data (Number (pos 64)) (Global name_arr) (Named name_k4)) ∷ (Data (Number (pos 64)) (Global name_g) (Of2 binary.Cons (Of unary.Vi (Number (pos 4))) Nil)) ∷ (Data (Number (pos 64)) (Global name_x) (Of2 binary.Cons (Of unary.Vi (Number (pos 0))) Nil)) ∷ []) }) ([]) ([])) (s.WithBlock (s.Then 26 (s.Fall ([]) ([])) s.NoBlock s.End) s.NoBlock) (s.Then 27 (s.Set ([]) ([])) s.NoBlock (s.Then 28 (s.Store 1 ([]) ([])) s.NoBlock (s.Then 29 (s.Share 0 (Number (pos 1)) ([])) s.NoBlock (s.Then 30 (s.Load 0 ([]) ([])) s.NoBlock (s.Then 31 (s.Unshare 4 3 ([])) s.NoBlock (s.Then 32 (s.Return ((Of2 binary.Cons (Of unary.Vi (Number (pos 0))) Nil) ∷ (Named name_k4) ∷ (Of2 binary.Cons (Of unary.Vi (Number (pos 4))) Nil) ∷ []) ([]) ([])) s.NoBlock s.End))))))) (s.WithBlock (s.Then 33 (s.Absurd ((record { lines = ((line.Comb (((pos 1), 8) ∷ ((pos 1), 9) ∷ [])) ∷ []) }) ∷ [])) s.NoBlock s.End) s.NoBlock)) s.End)))))))))))))) ≡ (RefusedAt 31 32 1)
unfolding computing
random_969 = refl

random_970 : body_verdict (record { predicates = ([]); specs = ((record { is_void = true; name = name_put; params = (name_p ∷ name_k ∷ []); vars = ((name_v, sort.Val) ∷ (name_w, sort.Val) ∷ (name_o, sort.Val) ∷ []); pre = (record { opened = []; facts = ([]); locals = ((name_p, (Var 0 sort.Val)) ∷ (name_k, (Var 1 sort.Val)) ∷ []); items = ((Data (Number (pos 64)) (Var 0 sort.Val) (Of2 binary.Cons (Var 2 sort.Val) Nil)) ∷ []) }); post = (record { opened = []; facts = ([]); locals = []; items = ((Data (Number (pos 64)) (Var 0 sort.Val) (Of2 binary.Cons (Var 1 sort.Val) Nil)) ∷ []) }) }) ∷ (record { is_void = false; name = name_main; params = ([]); vars = []; pre = (record { opened = []; facts = ([]); locals = []; items = ((Data (Number (pos 64)) (Global name_arr) (Of2 binary.Cons (Of unary.Vi (Number (pos 1))) (Of2 binary.Cons (Of unary.Vi (Number (pos 2))) (Of2 binary.Cons (Of unary.Vi (Number (pos 0))) (Of2 binary.Cons (Of unary.Vi (Number (pos 0))) Nil))))) ∷ (Data (Number (pos 64)) (Global name_g) (Of2 binary.Cons (Of unary.Vi (Number (pos 3))) Nil)) ∷ (Data (Number (pos 64)) (Global name_x) (Of2 binary.Cons (Of unary.Vi (Number (pos 3))) Nil)) ∷ []) }); post = (record { opened = (sort.List ∷ sort.List ∷ sort.List ∷ []); facts = ([]); locals = []; items = ((Data (Number (pos 64)) (Global name_x) (Var 1 sort.List)) ∷ (Data (Number (pos 1)) (Global name_arr) (Var 2 sort.List)) ∷ (Data (Number (pos 63)) (Global name_arr) (Var 2 sort.List)) ∷ (Data (Number (pos 64)) (Global name_g) (Var 3 sort.List)) ∷ []) }) }) ∷ []) }) (record { is_void = false; name = name_main; params = ([]); vars = []; pre = (record { opened = []; facts = ([]); locals = []; items = ((Data (Number (pos 64)) (Global name_arr) (Of2 binary.Cons (Of unary.Vi (Number (pos 1))) (Of2 binary.Cons (Of unary.Vi (Number (pos 2))) (Of2 binary.Cons (Of unary.Vi (Number (pos 0))) (Of2 binary.Cons (Of unary.Vi (Number (pos 0))) Nil))))) ∷ (Data (Number (pos 64)) (Global name_g) (Of2 binary.Cons (Of unary.Vi (Number (pos 3))) Nil)) ∷ (Data (Number (pos 64)) (Global name_x) (Of2 binary.Cons (Of unary.Vi (Number (pos 3))) Nil)) ∷ []) }); post = (record { opened = (sort.List ∷ sort.List ∷ sort.List ∷ []); facts = ([]); locals = []; items = ((Data (Number (pos 64)) (Global name_x) (Var 1 sort.List)) ∷ (Data (Number (pos 1)) (Global name_arr) (Var 2 sort.List)) ∷ (Data (Number (pos 63)) (Global name_arr) (Var 2 sort.List)) ∷ (Data (Number (pos 64)) (Global name_g) (Var 3 sort.List)) ∷ []) }) }) (record { temps = (name_s ∷ name_t ∷ name_i ∷ name_x1 ∷ name_d0 ∷ name_p1 ∷ name_q1 ∷ []); body = (c.Then (c.Set 0 (c.Const 2)) (c.Then (c.Set 1 (c.Const 0)) (c.Then (c.Set 6 (c.Address (root.Global name_g 1) c.Here)) (c.Then (c.Store (root.Temp 6) c.Here (c.Const 4)) (c.Then (c.Load 0 (root.Temp 6) c.Here) (c.Then (c.Set 0 (c.Binary two.Div kind.Signed (c.Const 2) (c.Const 1))) (c.Then (c.Call None name_put ((c.Address (root.Global name_x 1) c.Here) ∷ (c.Temp 1) ∷ [])) (c.Then (c.Set 0 (c.Binary two.Mul kind.Signed (c.Const 2) (c.Const 2))) (c.Then (c.Set 2 (c.Const 0)) (c.Then (c.Loop (c.Then (c.If (c.Nonzero kind.Signed (c.Binary two.Lt kind.Signed (c.Temp 2) (c.Const 1))) (c.Then (c.Store (root.Global name_arr 4) (c.Index kind.Signed (c.Temp 2) c.Here) (c.Temp 2)) (c.Then (c.Set 2 (c.Binary two.Add kind.Signed (c.Temp 2) (c.Const 1))) (c.Then c.Continue c.End))) (c.Then c.Break c.End)) c.End)) (c.Then (c.If (c.Nonzero kind.Signed (c.Binary two.Gt kind.Signed (c.Temp 2) (c.Temp 1))) (c.Then (c.Set 6 (c.Address (root.Global name_g 1) c.Here)) (c.Then (c.Store (root.Temp 6) c.Here (c.Const 4)) (c.Then (c.Load 0 (root.Temp 6) c.Here) c.End))) c.End) (c.Then (c.Return (Some (c.Temp 0))) c.End)))))))))))) }) (s.Then 1 (s.Set ([]) ([])) s.NoBlock (s.Then 2 (s.Set ([]) ([])) s.NoBlock (s.Then 3 (s.Set ([]) ([])) s.NoBlock (s.Then 4 (s.Bounds 0 None ([])) s.NoBlock (s.Then 5 (s.Bounds 2 None ([])) s.NoBlock (s.Then 6 (s.Store 1 ([]) ([])) s.NoBlock (s.Then 7 (s.Load 1 ([]) ([])) s.NoBlock (s.Then 8 (s.Set ([]) ([])) s.NoBlock (s.Then 9 (s.Block 0 (record { opened = []; facts = ([]); locals = ((name_s, (Of unary.Vi (Number (pos 2)))) ∷ (name_t, (Of unary.Vi (Number (pos 0)))) ∷ (name_q1, (Global name_g)) ∷ []); items = ((Data (Number (pos 64)) (Global name_arr) (Of2 binary.Cons (Of unary.Vi (Number (pos 1))) (Of2 binary.Cons (Of unary.Vi (Number (pos 2))) (Of2 binary.Cons (Of unary.Vi (Number (pos 0))) (Of2 binary.Cons (Of unary.Vi (Number (pos 0))) Nil))))) ∷ (Data (Number (pos 64)) (Global name_g) (Of2 binary.Cons (Of unary.Vi (Number (pos 4))) Nil)) ∷ (Data (Number (pos 64)) (Global name_x) (Of2 binary.Cons (Of unary.Vi (Number (pos 3))) Nil)) ∷ []) }) ([]) ([])) (s.WithBlock (s.Then 10 (s.Fall ([]) ([])) s.NoBlock s.End) s.NoBlock) (s.Then 11 (s.Call ((Global name_x) ∷ (Of unary.Vi (Number (pos 0))) ∷ (Of unary.Vi (Number (pos 3))) ∷ []) ([]) ([]) ([])) s.NoBlock (s.Then 12 (s.Set ([]) ([])) s.NoBlock (s.Then 13 (s.Set ([]) ([])) s.NoBlock (s.Then 14 (s.While (record { opened = (sort.Int ∷ sort.List ∷ []); facts = ((Rel relation.Le (Number (pos 0)) (Var 0 sort.Int)) ∷ (Rel relation.Le (Var 0 sort.Int) (Number (pos 1))) ∷ (Rel relation.Eq (Of unary.Len (Var 1 sort.List)) (Number (pos 4))) ∷ []); locals = ((name_s, (Of unary.Vi (Number (pos 4)))) ∷ (name_t, (Of unary.Vi (Number (pos 0)))) ∷ (name_i, (Of unary.Vi (Var 0 sort.Int))) ∷ (name_q1, (Global name_g)) ∷ []); items = ((Data (Number (pos 64)) (Global name_arr) (Var 1 sort.List)) ∷ (Data (Number (pos 64)) (Global name_g) (Of2 binary.Cons (Of unary.Vi (Number (pos 4))) Nil)) ∷ (Data (Number (pos 64)) (Global name_x) (Of2 binary.Cons (Of unary.Vi (Number (pos 0))) Nil)) ∷ []) }) (record { opened = (sort.Int ∷ sort.List ∷ []); facts = ((Rel relation.Le (Number (pos 0)) (Var 0 sort.Int)) ∷ (Rel relation.Le (Var 0 sort.Int) (Number (pos 1))) ∷ (Rel relation.Eq (Of unary.Len (Var 1 sort.List)) (Number (pos 4))) ∷ (Rel relation.Le (Number (pos 1)) (Var 0 sort.Int)) ∷ []); locals = ((name_s, (Of unary.Vi (Number (pos 4)))) ∷ (name_t, (Of unary.Vi (Number (pos 0)))) ∷ (name_i, (Of unary.Vi (Var 0 sort.Int))) ∷ (name_q1, (Global name_g)) ∷ []); items = ((Data (Number (pos 64)) (Global name_arr) (Var 1 sort.List)) ∷ (Data (Number (pos 64)) (Global name_g) (Of2 binary.Cons (Of unary.Vi (Number (pos 4))) Nil)) ∷ (Data (Number (pos 64)) (Global name_x) (Of2 binary.Cons (Of unary.Vi (Number (pos 0))) Nil)) ∷ []) }) (name_k3 ∷ name_k4 ∷ []) ([]) (name_k1 ∷ name_k2 ∷ [])) (s.WithBlock (s.Then 15 (s.Meet ((Number (pos 0)) ∷ (Of2 binary.Cons (Of unary.Vi (Number (pos 1))) (Of2 binary.Cons (Of unary.Vi (Number (pos 2))) (Of2 binary.Cons (Of unary.Vi (Number (pos 0))) (Of2 binary.Cons (Of unary.Vi (Number (pos 0))) Nil)))) ∷ []) ([])) s.NoBlock s.End) (s.WithBlock (s.Then 16 (s.If ([]) ((record { lines = ((line.Comb (((pos 1), 4) ∷ ((pos 1), 8) ∷ [])) ∷ []) }) ∷ (record { lines = ((line.Comb (((pos 1), 5) ∷ ((pos 1), 8) ∷ [])) ∷ []) }) ∷ []) ([]) ([])) (s.WithBlock (s.Then 17 (s.Store 0 ([]) ((record { lines = ((line.Comb (((pos 1), 4) ∷ ((pos 1), 9) ∷ [])) ∷ []) }) ∷ (record { lines = ((line.Comb (((pos 1), 5) ∷ ((pos 1), 9) ∷ [])) ∷ []) }) ∷ (record { lines = ((line.Comb (((pos 1), 5) ∷ ((pos 1), 7) ∷ ((pos 1), 9) ∷ [])) ∷ []) }) ∷ [])) s.NoBlock (s.Then 18 (s.Law name_len_upd ((Named name_k2) ∷ (Named name_k1) ∷ (Of unary.Vi (Named name_k1)) ∷ []) ([])) s.NoBlock (s.Then 19 (s.Block 1 (record { opened = []; facts = ([]); locals = ((name_s, (Of unary.Vi (Number (pos 4)))) ∷ (name_t, (Of unary.Vi (Number (pos 0)))) ∷ (name_i, (Of unary.Vi (Of2 binary.Add (Named name_k1) (Number (pos 1))))) ∷ (name_q1, (Global name_g)) ∷ []); items = ((Data (Number (pos 64)) (Global name_arr) (Of3 ternary.Upd (Named name_k2) (Named name_k1) (Of unary.Vi (Named name_k1)))) ∷ (Data (Number (pos 64)) (Global name_g) (Of2 binary.Cons (Of unary.Vi (Number (pos 4))) Nil)) ∷ (Data (Number (pos 64)) (Global name_x) (Of2 binary.Cons (Of unary.Vi (Number (pos 0))) Nil)) ∷ []) }) ([]) ([])) (s.WithBlock (s.Then 20 (s.Set ([]) ((record { lines = ((line.Comb (((pos 1), 4) ∷ ((pos 1), 11) ∷ [])) ∷ []) }) ∷ (record { lines = ((line.Comb (((pos 1), 5) ∷ ((pos 1), 11) ∷ [])) ∷ []) }) ∷ (record { lines = ((line.Comb (((pos 1), 4) ∷ ((pos 1), 11) ∷ [])) ∷ []) }) ∷ (record { lines = ((line.Comb (((pos 1), 5) ∷ ((pos 1), 11) ∷ [])) ∷ []) }) ∷ [])) s.NoBlock (s.Then 21 (s.Fall ([]) ([])) s.NoBlock s.End)) s.NoBlock) (s.Then 22 (s.Continue ((Of2 binary.Add (Named name_k1) (Number (pos 1))) ∷ (Of3 ternary.Upd (Named name_k2) (Named name_k1) (Of unary.Vi (Named name_k1))) ∷ []) ((record { lines = ((line.Comb (((pos 1), 4) ∷ ((pos 1), 11) ∷ [])) ∷ []) }) ∷ (record { lines = ((line.Comb (((pos 1), 9) ∷ ((pos 1), 6) ∷ ((pos 1), 11) ∷ [])) ∷ []) }) ∷ (record { lines = ((line.Comb (((pos 1), 10) ∷ ((pos 1), 7) ∷ ((pos 1), 11) ∷ [])) ∷ []) }) ∷ [])) s.NoBlock s.End)))) (s.WithBlock (s.Then 23 (s.Break ((Named name_k1) ∷ (Named name_k2) ∷ []) ([])) s.NoBlock s.End) s.NoBlock)) s.End) s.NoBlock)) (s.Then 24 (s.While (record { opened = (sort.Int ∷ sort.List ∷ []); facts = ((Rel relation.Le (Number (pos 0)) (Var 0 sort.Int)) ∷ (Rel relation.Le (Var 0 sort.Int) (Number (pos 1))) ∷ (Rel relation.Eq (Of unary.Len (Var 1 sort.List)) (Number (pos 4))) ∷ []); locals = ((name_s, (Of unary.Vi (Number (pos 4)))) ∷ (name_t, (Of unary.Vi (Number (pos 0)))) ∷ (name_i, (Of unary.Vi (Var 0 sort.Int))) ∷ (name_q1, (Global name_g)) ∷ []); items = ((Data (Number (pos 64)) (Global name_arr) (Var 1 sort.List)) ∷ (Data (Number (pos 64)) (Global name_g) (Of2 binary.Cons (Of unary.Vi (Number (pos 4))) Nil)) ∷ (Data (Number (pos 64)) (Global name_x) (Of2 binary.Cons (Of unary.Vi (Number (pos 0))) Nil)) ∷ []) }) (record { opened = (sort.Int ∷ sort.List ∷ []); facts = ((Rel relation.Le (Number (pos 0)) (Var 0 sort.Int)) ∷ (Rel relation.Le (Var 0 sort.Int) (Number (pos 1))) ∷ (Rel relation.Eq (Of unary.Len (Var 1 sort.List)) (Number (pos 4))) ∷ (Rel relation.Le (Number (pos 1)) (Var 0 sort.Int)) ∷ []); locals = ((name_s, (Of unary.Vi (Number (pos 4)))) ∷ (name_t, (Of unary.Vi (Number (pos 0)))) ∷ (name_i, (Of unary.Vi (Var 0 sort.Int))) ∷ (name_q1, (Global name_g)) ∷ []); items = ((Data (Number (pos 64)) (Global name_arr) (Var 1 sort.List)) ∷ (Data (Number (pos 64)) (Global name_g) (Of2 binary.Cons (Of unary.Vi (Number (pos 4))) Nil)) ∷ (Data (Number (pos 64)) (Global name_x) (Of2 binary.Cons (Of unary.Vi (Number (pos 0))) Nil)) ∷ []) }) (name_k3 ∷ name_k4 ∷ []) ([]) (name_k1 ∷ name_k2 ∷ [])) (s.WithBlock (s.Then 25 (s.Meet ((Number (pos 0)) ∷ (Of2 binary.Cons (Of unary.Vi (Number (pos 1))) (Of2 binary.Cons (Of unary.Vi (Number (pos 2))) (Of2 binary.Cons (Of unary.Vi (Number (pos 0))) (Of2 binary.Cons (Of unary.Vi (Number (pos 0))) Nil)))) ∷ []) ([])) s.NoBlock s.End) (s.WithBlock (s.Then 26 (s.If ([]) ((record { lines = ((line.Comb (((pos 1), 4) ∷ ((pos 1), 8) ∷ [])) ∷ []) }) ∷ (record { lines = ((line.Comb (((pos 1), 5) ∷ ((pos 1), 8) ∷ [])) ∷ []) }) ∷ []) ([]) ([])) (s.WithBlock (s.Then 27 (s.Store 0 ([]) ((record { lines = ((line.Comb (((pos 1), 4) ∷ ((pos 1), 9) ∷ [])) ∷ []) }) ∷ (record { lines = ((line.Comb (((pos 1), 5) ∷ ((pos 1), 9) ∷ [])) ∷ []) }) ∷ (record { lines = ((line.Comb (((pos 1), 5) ∷ ((pos 1), 7) ∷ ((pos 1), 9) ∷ [])) ∷ []) }) ∷ [])) s.NoBlock (s.Then 28 (s.Law name_len_upd ((Named name_k2) ∷ (Named name_k1) ∷ (Of unary.Vi (Named name_k1)) ∷ []) ([])) s.NoBlock (s.Then 29 (s.Block 1 (record { opened = []; facts = ([]); locals = ((name_s, (Of unary.Vi (Number (pos 4)))) ∷ (name_t, (Of unary.Vi (Number (pos 0)))) ∷ (name_i, (Of unary.Vi (Of2 binary.Add (Named name_k1) (Number (pos 1))))) ∷ (name_q1, (Global name_g)) ∷ []); items = ((Data (Number (pos 64)) (Global name_arr) (Of3 ternary.Upd (Named name_k2) (Named name_k1) (Of unary.Vi (Named name_k1)))) ∷ (Data (Number (pos 64)) (Global name_g) (Of2 binary.Cons (Of unary.Vi (Number (pos 4))) Nil)) ∷ (Data (Number (pos 64)) (Global name_x) (Of2 binary.Cons (Of unary.Vi (Number (pos 0))) Nil)) ∷ []) }) ([]) ([])) (s.WithBlock (s.Then 30 (s.Set ([]) ((record { lines = ((line.Comb (((pos 1), 4) ∷ ((pos 1), 11) ∷ [])) ∷ []) }) ∷ (record { lines = ((line.Comb (((pos 1), 5) ∷ ((pos 1), 11) ∷ [])) ∷ []) }) ∷ (record { lines = ((line.Comb (((pos 1), 4) ∷ ((pos 1), 11) ∷ [])) ∷ []) }) ∷ (record { lines = ((line.Comb (((pos 1), 5) ∷ ((pos 1), 11) ∷ [])) ∷ []) }) ∷ [])) s.NoBlock (s.Then 31 (s.Fall ([]) ([])) s.NoBlock s.End)) s.NoBlock) (s.Then 32 (s.Continue ((Of2 binary.Add (Named name_k1) (Number (pos 1))) ∷ (Of3 ternary.Upd (Named name_k2) (Named name_k1) (Of unary.Vi (Named name_k1))) ∷ []) ((record { lines = ((line.Comb (((pos 1), 4) ∷ ((pos 1), 11) ∷ [])) ∷ []) }) ∷ (record { lines = ((line.Comb (((pos 1), 9) ∷ ((pos 1), 6) ∷ ((pos 1), 11) ∷ [])) ∷ []) }) ∷ (record { lines = ((line.Comb (((pos 1), 10) ∷ ((pos 1), 7) ∷ ((pos 1), 11) ∷ [])) ∷ []) }) ∷ [])) s.NoBlock s.End)))) (s.WithBlock (s.Then 33 (s.Break ((Named name_k1) ∷ (Named name_k2) ∷ []) ([])) s.NoBlock s.End) s.NoBlock)) s.End) s.NoBlock)) (s.Then 34 (s.If ([]) ((record { lines = ((line.Comb (((pos 1), 4) ∷ ((pos 1), 9) ∷ [])) ∷ []) }) ∷ (record { lines = ((line.Comb (((pos 1), 5) ∷ ((pos 1), 9) ∷ [])) ∷ []) }) ∷ []) ([]) ([])) (s.WithBlock (s.Then 35 (s.Block 0 (record { opened = []; facts = ([]); locals = ((name_s, (Of unary.Vi (Number (pos 4)))) ∷ (name_t, (Of unary.Vi (Number (pos 0)))) ∷ (name_i, (Of unary.Vi (Named name_k3))) ∷ (name_q1, (Global name_g)) ∷ []); items = ((Data (Number (pos 64)) (Global name_arr) (Named name_k4)) ∷ (Data (Number (pos 64)) (Global name_g) (Of2 binary.Cons (Of unary.Vi (Number (pos 4))) Nil)) ∷ (Data (Number (pos 64)) (Global name_x) (Of2 binary.Cons (Of unary.Vi (Number (pos 0))) Nil)) ∷ []) }) ([]) ([])) (s.WithBlock (s.Then 36 (s.Fall ([]) ([])) s.NoBlock s.End) s.NoBlock) (s.Then 37 (s.Set ([]) ([])) s.NoBlock (s.Then 38 (s.Store 1 ([]) ([])) s.NoBlock (s.Then 39 (s.Share 0 (Number (pos 1)) ([])) s.NoBlock (s.Then 40 (s.Load 0 ([]) ([])) s.NoBlock (s.Then 41 (s.Share 0 (Number (pos 1)) ([])) s.NoBlock (s.Then 42 (s.Unshare 4 3 ([])) s.NoBlock (s.Then 43 (s.Return ((Of2 binary.Cons (Of unary.Vi (Number (pos 0))) Nil) ∷ (Named name_k4) ∷ (Of2 binary.Cons (Of unary.Vi (Number (pos 4))) Nil) ∷ []) ([]) ([])) s.NoBlock s.End)))))))) (s.WithBlock (s.Then 44 (s.Absurd ((record { lines = ((line.Comb (((pos 1), 8) ∷ ((pos 1), 9) ∷ [])) ∷ []) }) ∷ [])) s.NoBlock s.End) s.NoBlock)) s.End))))))))))))))) ≡ (RefusedAt 24 6 1)
unfolding computing
random_970 = refl

random_971 : body_verdict (record { predicates = ([]); specs = ((record { is_void = true; name = name_put; params = (name_p ∷ name_k ∷ []); vars = ((name_v, sort.Val) ∷ (name_w, sort.Val) ∷ (name_o, sort.Val) ∷ []); pre = (record { opened = []; facts = ([]); locals = ((name_p, (Var 0 sort.Val)) ∷ (name_k, (Var 1 sort.Val)) ∷ []); items = ((Data (Number (pos 64)) (Var 0 sort.Val) (Of2 binary.Cons (Var 2 sort.Val) Nil)) ∷ []) }); post = (record { opened = []; facts = ([]); locals = []; items = ((Data (Number (pos 64)) (Var 0 sort.Val) (Of2 binary.Cons (Var 1 sort.Val) Nil)) ∷ []) }) }) ∷ (record { is_void = false; name = name_main; params = ([]); vars = []; pre = (record { opened = []; facts = ([]); locals = []; items = ((Data (Number (pos 64)) (Global name_arr) (Of2 binary.Cons (Of unary.Vi (Number (pos 1))) (Of2 binary.Cons (Of unary.Vi (Number (pos 2))) (Of2 binary.Cons (Of unary.Vi (Number (pos 0))) (Of2 binary.Cons (Of unary.Vi (Number (pos 0))) Nil))))) ∷ (Data (Number (pos 64)) (Global name_g) (Of2 binary.Cons (Of unary.Vi (Number (pos 3))) Nil)) ∷ (Data (Number (pos 64)) (Global name_x) (Of2 binary.Cons (Of unary.Vi (Number (pos 3))) Nil)) ∷ []) }); post = (record { opened = (sort.List ∷ sort.List ∷ sort.List ∷ []); facts = ([]); locals = []; items = ((Data (Number (pos 64)) (Global name_x) (Var 1 sort.List)) ∷ (Data (Number (pos 1)) (Global name_arr) (Var 2 sort.List)) ∷ (Data (Number (pos 63)) (Global name_arr) (Var 2 sort.List)) ∷ (Data (Number (pos 64)) (Global name_g) (Var 3 sort.List)) ∷ []) }) }) ∷ []) }) (record { is_void = false; name = name_main; params = ([]); vars = []; pre = (record { opened = []; facts = ([]); locals = []; items = ((Data (Number (pos 64)) (Global name_arr) (Of2 binary.Cons (Of unary.Vi (Number (pos 1))) (Of2 binary.Cons (Of unary.Vi (Number (pos 2))) (Of2 binary.Cons (Of unary.Vi (Number (pos 0))) (Of2 binary.Cons (Of unary.Vi (Number (pos 0))) Nil))))) ∷ (Data (Number (pos 64)) (Global name_g) (Of2 binary.Cons (Of unary.Vi (Number (pos 3))) Nil)) ∷ (Data (Number (pos 64)) (Global name_x) (Of2 binary.Cons (Of unary.Vi (Number (pos 3))) Nil)) ∷ []) }); post = (record { opened = (sort.List ∷ sort.List ∷ sort.List ∷ []); facts = ([]); locals = []; items = ((Data (Number (pos 64)) (Global name_x) (Var 1 sort.List)) ∷ (Data (Number (pos 1)) (Global name_arr) (Var 2 sort.List)) ∷ (Data (Number (pos 63)) (Global name_arr) (Var 2 sort.List)) ∷ (Data (Number (pos 64)) (Global name_g) (Var 3 sort.List)) ∷ []) }) }) (record { temps = (name_s ∷ name_t ∷ name_i ∷ name_x1 ∷ name_d0 ∷ name_p1 ∷ name_q1 ∷ []); body = (c.Then (c.Set 0 (c.Const 2)) (c.Then (c.Set 1 (c.Const 0)) (c.Then (c.Set 6 (c.Address (root.Global name_g 1) c.Here)) (c.Then (c.Store (root.Temp 6) c.Here (c.Const 4)) (c.Then (c.Load 0 (root.Temp 6) c.Here) (c.Then (c.Set 0 (c.Binary two.Div kind.Signed (c.Const 2) (c.Const 1))) (c.Then (c.Call None name_put ((c.Address (root.Global name_x 1) c.Here) ∷ (c.Temp 1) ∷ [])) (c.Then (c.Set 0 (c.Binary two.Mul kind.Signed (c.Const 2) (c.Const 2))) (c.Then (c.Set 2 (c.Const 0)) (c.Then (c.Loop (c.Then (c.If (c.Nonzero kind.Signed (c.Binary two.Lt kind.Signed (c.Temp 2) (c.Const 1))) (c.Then (c.Store (root.Global name_arr 4) (c.Index kind.Signed (c.Temp 2) c.Here) (c.Temp 2)) (c.Then (c.Set 2 (c.Binary two.Add kind.Signed (c.Temp 2) (c.Const 1))) (c.Then c.Continue c.End))) (c.Then c.Break c.End)) c.End)) (c.Then (c.If (c.Nonzero kind.Signed (c.Binary two.Gt kind.Signed (c.Temp 2) (c.Temp 1))) (c.Then (c.Set 6 (c.Address (root.Global name_g 1) c.Here)) (c.Then (c.Store (root.Temp 6) c.Here (c.Const 4)) (c.Then (c.Load 0 (root.Temp 6) c.Here) c.End))) c.End) (c.Then (c.Return (Some (c.Temp 0))) c.End)))))))))))) }) (s.Then 1 (s.Set ([]) ([])) s.NoBlock (s.Then 2 (s.Set ([]) ([])) s.NoBlock (s.Then 3 (s.Set ([]) ([])) s.NoBlock (s.Then 4 (s.Bounds 0 None ([])) s.NoBlock (s.Then 5 (s.Bounds 2 None ([])) s.NoBlock (s.Then 6 (s.Store 1 ([]) ([])) s.NoBlock (s.Then 7 (s.Load 1 ([]) ([])) s.NoBlock (s.Then 8 (s.Set ([]) ([])) s.NoBlock (s.Then 9 (s.Block 0 (record { opened = []; facts = ([]); locals = ((name_s, (Of unary.Vi (Number (pos 2)))) ∷ (name_t, (Of unary.Vi (Number (pos 0)))) ∷ (name_q1, (Global name_g)) ∷ []); items = ((Data (Number (pos 64)) (Global name_arr) (Of2 binary.Cons (Of unary.Vi (Number (pos 1))) (Of2 binary.Cons (Of unary.Vi (Number (pos 2))) (Of2 binary.Cons (Of unary.Vi (Number (pos 0))) (Of2 binary.Cons (Of unary.Vi (Number (pos 0))) Nil))))) ∷ (Data (Number (pos 64)) (Global name_g) (Of2 binary.Cons (Of unary.Vi (Number (pos 4))) Nil)) ∷ (Data (Number (pos 64)) (Global name_x) (Of2 binary.Cons (Of unary.Vi (Number (pos 3))) Nil)) ∷ []) }) ([]) ([])) (s.WithBlock (s.Then 10 (s.Fall ([]) ([])) s.NoBlock s.End) s.NoBlock) (s.Then 11 (s.Set ([]) ([])) s.NoBlock (s.Then 12 (s.Set ([]) ([])) s.NoBlock (s.Then 13 (s.While (record { opened = (sort.Int ∷ sort.List ∷ []); facts = ((Rel relation.Le (Number (pos 0)) (Var 0 sort.Int)) ∷ (Rel relation.Le (Var 0 sort.Int) (Number (pos 1))) ∷ (Rel relation.Eq (Of unary.Len (Var 1 sort.List)) (Number (pos 4))) ∷ []); locals = ((name_s, (Of unary.Vi (Number (pos 4)))) ∷ (name_t, (Of unary.Vi (Number (pos 0)))) ∷ (name_i, (Of unary.Vi (Var 0 sort.Int))) ∷ (name_q1, (Global name_g)) ∷ []); items = ((Data (Number (pos 64)) (Global name_arr) (Var 1 sort.List)) ∷ (Data (Number (pos 64)) (Global name_g) (Of2 binary.Cons (Of unary.Vi (Number (pos 4))) Nil)) ∷ (Data (Number (pos 64)) (Global name_x) (Of2 binary.Cons (Of unary.Vi (Number (pos 0))) Nil)) ∷ []) }) (record { opened = (sort.Int ∷ sort.List ∷ []); facts = ((Rel relation.Le (Number (pos 0)) (Var 0 sort.Int)) ∷ (Rel relation.Le (Var 0 sort.Int) (Number (pos 1))) ∷ (Rel relation.Eq (Of unary.Len (Var 1 sort.List)) (Number (pos 4))) ∷ (Rel relation.Le (Number (pos 1)) (Var 0 sort.Int)) ∷ []); locals = ((name_s, (Of unary.Vi (Number (pos 4)))) ∷ (name_t, (Of unary.Vi (Number (pos 0)))) ∷ (name_i, (Of unary.Vi (Var 0 sort.Int))) ∷ (name_q1, (Global name_g)) ∷ []); items = ((Data (Number (pos 64)) (Global name_arr) (Var 1 sort.List)) ∷ (Data (Number (pos 64)) (Global name_g) (Of2 binary.Cons (Of unary.Vi (Number (pos 4))) Nil)) ∷ (Data (Number (pos 64)) (Global name_x) (Of2 binary.Cons (Of unary.Vi (Number (pos 0))) Nil)) ∷ []) }) (name_k3 ∷ name_k4 ∷ []) ([]) (name_k1 ∷ name_k2 ∷ [])) (s.WithBlock (s.Then 14 (s.Meet ((Number (pos 0)) ∷ (Of2 binary.Cons (Of unary.Vi (Number (pos 1))) (Of2 binary.Cons (Of unary.Vi (Number (pos 2))) (Of2 binary.Cons (Of unary.Vi (Number (pos 0))) (Of2 binary.Cons (Of unary.Vi (Number (pos 0))) Nil)))) ∷ []) ([])) s.NoBlock s.End) (s.WithBlock (s.Then 15 (s.If ([]) ((record { lines = ((line.Comb (((pos 1), 4) ∷ ((pos 1), 8) ∷ [])) ∷ []) }) ∷ (record { lines = ((line.Comb (((pos 1), 5) ∷ ((pos 1), 8) ∷ [])) ∷ []) }) ∷ []) ([]) ([])) (s.WithBlock (s.Then 16 (s.Store 0 ([]) ((record { lines = ((line.Comb (((pos 1), 4) ∷ ((pos 1), 9) ∷ [])) ∷ []) }) ∷ (record { lines = ((line.Comb (((pos 1), 5) ∷ ((pos 1), 9) ∷ [])) ∷ []) }) ∷ (record { lines = ((line.Comb (((pos 1), 5) ∷ ((pos 1), 7) ∷ ((pos 1), 9) ∷ [])) ∷ []) }) ∷ [])) s.NoBlock (s.Then 17 (s.Law name_len_upd ((Named name_k2) ∷ (Named name_k1) ∷ (Of unary.Vi (Named name_k1)) ∷ []) ([])) s.NoBlock (s.Then 18 (s.Block 1 (record { opened = []; facts = ([]); locals = ((name_s, (Of unary.Vi (Number (pos 4)))) ∷ (name_t, (Of unary.Vi (Number (pos 0)))) ∷ (name_i, (Of unary.Vi (Of2 binary.Add (Named name_k1) (Number (pos 1))))) ∷ (name_q1, (Global name_g)) ∷ []); items = ((Data (Number (pos 64)) (Global name_arr) (Of3 ternary.Upd (Named name_k2) (Named name_k1) (Of unary.Vi (Named name_k1)))) ∷ (Data (Number (pos 64)) (Global name_g) (Of2 binary.Cons (Of unary.Vi (Number (pos 4))) Nil)) ∷ (Data (Number (pos 64)) (Global name_x) (Of2 binary.Cons (Of unary.Vi (Number (pos 0))) Nil)) ∷ []) }) ([]) ([])) (s.WithBlock (s.Then 19 (s.Set ([]) ((record { lines = ((line.Comb (((pos 1), 4) ∷ ((pos 1), 11) ∷ [])) ∷ []) }) ∷ (record { lines = ((line.Comb (((pos 1), 5) ∷ ((pos 1), 11) ∷ [])) ∷ []) }) ∷ (record { lines = ((line.Comb (((pos 1), 4) ∷ ((pos 1), 11) ∷ [])) ∷ []) }) ∷ (record { lines = ((line.Comb (((pos 1), 5) ∷ ((pos 1), 11) ∷ [])) ∷ []) }) ∷ [])) s.NoBlock (s.Then 20 (s.Fall ([]) ([])) s.NoBlock s.End)) s.NoBlock) (s.Then 21 (s.Continue ((Of2 binary.Add (Named name_k1) (Number (pos 1))) ∷ (Of3 ternary.Upd (Named name_k2) (Named name_k1) (Of unary.Vi (Named name_k1))) ∷ []) ((record { lines = ((line.Comb (((pos 1), 4) ∷ ((pos 1), 11) ∷ [])) ∷ []) }) ∷ (record { lines = ((line.Comb (((pos 1), 9) ∷ ((pos 1), 6) ∷ ((pos 1), 11) ∷ [])) ∷ []) }) ∷ (record { lines = ((line.Comb (((pos 1), 10) ∷ ((pos 1), 7) ∷ ((pos 1), 11) ∷ [])) ∷ []) }) ∷ [])) s.NoBlock s.End)))) (s.WithBlock (s.Then 22 (s.Break ((Named name_k1) ∷ (Named name_k2) ∷ []) ([])) s.NoBlock s.End) s.NoBlock)) s.End) s.NoBlock)) (s.Then 23 (s.If ([]) ((record { lines = ((line.Comb (((pos 1), 4) ∷ ((pos 1), 9) ∷ [])) ∷ []) }) ∷ (record { lines = ((line.Comb (((pos 1), 5) ∷ ((pos 1), 9) ∷ [])) ∷ []) }) ∷ []) ([]) ([])) (s.WithBlock (s.Then 24 (s.Block 5 (record { opened = []; facts = ([]); locals = ((name_s, (Of unary.Vi (Number (pos 4)))) ∷ (name_t, (Of unary.Vi (Number (pos 0)))) ∷ (name_i, (Of unary.Vi (Named name_k3))) ∷ (name_q1, (Global name_g)) ∷ []); items = ((Data (Number (pos 64)) (Global name_arr) (Named name_k4)) ∷ (Data (Number (pos 64)) (Global name_g) (Of2 binary.Cons (Of unary.Vi (Number (pos 4))) Nil)) ∷ (Data (Number (pos 64)) (Global name_x) (Of2 binary.Cons (Of unary.Vi (Number (pos 0))) Nil)) ∷ []) }) ([]) ([])) (s.WithBlock (s.Then 25 (s.Fall ([]) ([])) s.NoBlock s.End) s.NoBlock) (s.Then 26 (s.Set ([]) ([])) s.NoBlock (s.Then 27 (s.Store 1 ([]) ([])) s.NoBlock (s.Then 28 (s.Share 0 (Number (pos 1)) ([])) s.NoBlock (s.Then 29 (s.Load 0 ([]) ([])) s.NoBlock (s.Then 30 (s.Share 0 (Number (pos 1)) ([])) s.NoBlock (s.Then 31 (s.Unshare 4 3 ([])) s.NoBlock (s.Then 32 (s.Return ((Of2 binary.Cons (Of unary.Vi (Number (pos 0))) Nil) ∷ (Named name_k4) ∷ (Of2 binary.Cons (Of unary.Vi (Number (pos 4))) Nil) ∷ []) ([]) ([])) s.NoBlock s.End)))))))) (s.WithBlock (s.Then 33 (s.Absurd ((record { lines = ((line.Comb (((pos 1), 8) ∷ ((pos 1), 9) ∷ [])) ∷ []) }) ∷ [])) s.NoBlock s.End) s.NoBlock)) s.End))))))))))))) ≡ (RefusedAt 11 2 1)
unfolding computing
random_971 = refl

random_972 : body_verdict (record { predicates = ([]); specs = ((record { is_void = true; name = name_put; params = (name_p ∷ name_k ∷ []); vars = ((name_v, sort.Val) ∷ (name_w, sort.Val) ∷ (name_o, sort.Val) ∷ []); pre = (record { opened = []; facts = ([]); locals = ((name_p, (Var 0 sort.Val)) ∷ (name_k, (Var 1 sort.Val)) ∷ []); items = ((Data (Number (pos 64)) (Var 0 sort.Val) (Of2 binary.Cons (Var 2 sort.Val) Nil)) ∷ []) }); post = (record { opened = []; facts = ([]); locals = []; items = ((Data (Number (pos 64)) (Var 0 sort.Val) (Of2 binary.Cons (Var 1 sort.Val) Nil)) ∷ []) }) }) ∷ (record { is_void = false; name = name_main; params = ([]); vars = []; pre = (record { opened = []; facts = ([]); locals = []; items = ((Data (Number (pos 64)) (Global name_arr) (Of2 binary.Cons (Of unary.Vi (Number (pos 1))) (Of2 binary.Cons (Of unary.Vi (Number (pos 2))) (Of2 binary.Cons (Of unary.Vi (Number (pos 0))) (Of2 binary.Cons (Of unary.Vi (Number (pos 0))) Nil))))) ∷ (Data (Number (pos 63)) (Global name_g) (Of2 binary.Cons (Of unary.Vi (Number (pos 3))) Nil)) ∷ (Data (Number (pos 64)) (Global name_x) (Of2 binary.Cons (Of unary.Vi (Number (pos 3))) Nil)) ∷ []) }); post = (record { opened = (sort.List ∷ sort.List ∷ sort.List ∷ []); facts = ([]); locals = []; items = ((Data (Number (pos 64)) (Global name_x) (Var 1 sort.List)) ∷ (Data (Number (pos 1)) (Global name_arr) (Var 2 sort.List)) ∷ (Data (Number (pos 63)) (Global name_arr) (Var 2 sort.List)) ∷ (Data (Number (pos 64)) (Global name_g) (Var 3 sort.List)) ∷ []) }) }) ∷ []) }) (record { is_void = false; name = name_main; params = ([]); vars = []; pre = (record { opened = []; facts = ([]); locals = []; items = ((Data (Number (pos 64)) (Global name_arr) (Of2 binary.Cons (Of unary.Vi (Number (pos 1))) (Of2 binary.Cons (Of unary.Vi (Number (pos 2))) (Of2 binary.Cons (Of unary.Vi (Number (pos 0))) (Of2 binary.Cons (Of unary.Vi (Number (pos 0))) Nil))))) ∷ (Data (Number (pos 63)) (Global name_g) (Of2 binary.Cons (Of unary.Vi (Number (pos 3))) Nil)) ∷ (Data (Number (pos 64)) (Global name_x) (Of2 binary.Cons (Of unary.Vi (Number (pos 3))) Nil)) ∷ []) }); post = (record { opened = (sort.List ∷ sort.List ∷ sort.List ∷ []); facts = ([]); locals = []; items = ((Data (Number (pos 64)) (Global name_x) (Var 1 sort.List)) ∷ (Data (Number (pos 1)) (Global name_arr) (Var 2 sort.List)) ∷ (Data (Number (pos 63)) (Global name_arr) (Var 2 sort.List)) ∷ (Data (Number (pos 64)) (Global name_g) (Var 3 sort.List)) ∷ []) }) }) (record { temps = (name_s ∷ name_t ∷ name_i ∷ name_x1 ∷ name_d0 ∷ name_p1 ∷ name_q1 ∷ []); body = (c.Then (c.Set 0 (c.Const 2)) (c.Then (c.Set 1 (c.Const 0)) (c.Then (c.Set 6 (c.Address (root.Global name_g 1) c.Here)) (c.Then (c.Store (root.Temp 6) c.Here (c.Const 4)) (c.Then (c.Load 0 (root.Temp 6) c.Here) (c.Then (c.Set 0 (c.Binary two.Div kind.Signed (c.Const 2) (c.Const 1))) (c.Then (c.Call None name_put ((c.Address (root.Global name_x 1) c.Here) ∷ (c.Temp 1) ∷ [])) (c.Then (c.Set 0 (c.Binary two.Mul kind.Signed (c.Const 2) (c.Const 2))) (c.Then (c.Set 2 (c.Const 0)) (c.Then (c.Loop (c.Then (c.If (c.Nonzero kind.Signed (c.Binary two.Lt kind.Signed (c.Temp 2) (c.Const 1))) (c.Then (c.Store (root.Global name_arr 4) (c.Index kind.Signed (c.Temp 2) c.Here) (c.Temp 2)) (c.Then (c.Set 2 (c.Binary two.Add kind.Signed (c.Temp 2) (c.Const 1))) (c.Then c.Continue c.End))) (c.Then c.Break c.End)) c.End)) (c.Then (c.If (c.Nonzero kind.Signed (c.Binary two.Gt kind.Signed (c.Temp 2) (c.Temp 1))) (c.Then (c.Set 6 (c.Address (root.Global name_g 1) c.Here)) (c.Then (c.Store (root.Temp 6) c.Here (c.Const 4)) (c.Then (c.Load 0 (root.Temp 6) c.Here) c.End))) c.End) (c.Then (c.Return (Some (c.Temp 0))) c.End)))))))))))) }) (s.Then 1 (s.Set ([]) ([])) s.NoBlock (s.Then 2 (s.Set ([]) ([])) s.NoBlock (s.Then 3 (s.Set ([]) ([])) s.NoBlock (s.Then 4 (s.Bounds 0 None ([])) s.NoBlock (s.Then 5 (s.Bounds 2 None ([])) s.NoBlock (s.Then 6 (s.Store 1 ([]) ([])) s.NoBlock (s.Then 7 (s.Load 1 ([]) ([])) s.NoBlock (s.Then 8 (s.Set ([]) ([])) s.NoBlock (s.Then 9 (s.Block 0 (record { opened = []; facts = ([]); locals = ((name_s, (Of unary.Vi (Number (pos 2)))) ∷ (name_t, (Of unary.Vi (Number (pos 0)))) ∷ (name_q1, (Global name_g)) ∷ []); items = ((Data (Number (pos 64)) (Global name_arr) (Of2 binary.Cons (Of unary.Vi (Number (pos 1))) (Of2 binary.Cons (Of unary.Vi (Number (pos 2))) (Of2 binary.Cons (Of unary.Vi (Number (pos 0))) (Of2 binary.Cons (Of unary.Vi (Number (pos 0))) Nil))))) ∷ (Data (Number (pos 64)) (Global name_g) (Of2 binary.Cons (Of unary.Vi (Number (pos 4))) Nil)) ∷ (Data (Number (pos 64)) (Global name_x) (Of2 binary.Cons (Of unary.Vi (Number (pos 3))) Nil)) ∷ []) }) ([]) ([])) (s.WithBlock (s.Then 10 (s.Fall ([]) ([])) s.NoBlock s.End) s.NoBlock) (s.Then 11 (s.Call ((Global name_x) ∷ (Of unary.Vi (Number (pos 0))) ∷ (Of unary.Vi (Number (pos 3))) ∷ []) ([]) ([]) ([])) s.NoBlock (s.Then 12 (s.Set ([]) ([])) s.NoBlock (s.Then 13 (s.Set ([]) ([])) s.NoBlock (s.Then 14 (s.While (record { opened = (sort.Int ∷ sort.List ∷ []); facts = ((Rel relation.Le (Number (pos 0)) (Var 0 sort.Int)) ∷ (Rel relation.Le (Var 0 sort.Int) (Number (pos 1))) ∷ (Rel relation.Eq (Of unary.Len (Var 1 sort.List)) (Number (pos 4))) ∷ []); locals = ((name_s, (Of unary.Vi (Number (pos 4)))) ∷ (name_t, (Of unary.Vi (Number (pos 0)))) ∷ (name_i, (Of unary.Vi (Var 0 sort.Int))) ∷ (name_q1, (Global name_g)) ∷ []); items = ((Data (Number (pos 64)) (Global name_arr) (Var 1 sort.List)) ∷ (Data (Number (pos 64)) (Global name_g) (Of2 binary.Cons (Of unary.Vi (Number (pos 4))) Nil)) ∷ (Data (Number (pos 64)) (Global name_x) (Of2 binary.Cons (Of unary.Vi (Number (pos 0))) Nil)) ∷ []) }) (record { opened = (sort.Int ∷ sort.List ∷ []); facts = ((Rel relation.Le (Number (pos 0)) (Var 0 sort.Int)) ∷ (Rel relation.Le (Var 0 sort.Int) (Number (pos 1))) ∷ (Rel relation.Eq (Of unary.Len (Var 1 sort.List)) (Number (pos 4))) ∷ (Rel relation.Le (Number (pos 1)) (Var 0 sort.Int)) ∷ []); locals = ((name_s, (Of unary.Vi (Number (pos 4)))) ∷ (name_t, (Of unary.Vi (Number (pos 0)))) ∷ (name_i, (Of unary.Vi (Var 0 sort.Int))) ∷ (name_q1, (Global name_g)) ∷ []); items = ((Data (Number (pos 64)) (Global name_arr) (Var 1 sort.List)) ∷ (Data (Number (pos 64)) (Global name_g) (Of2 binary.Cons (Of unary.Vi (Number (pos 4))) Nil)) ∷ (Data (Number (pos 64)) (Global name_x) (Of2 binary.Cons (Of unary.Vi (Number (pos 0))) Nil)) ∷ []) }) (name_k3 ∷ name_k4 ∷ []) ([]) (name_k1 ∷ name_k2 ∷ [])) (s.WithBlock (s.Then 15 (s.Meet ((Number (pos 0)) ∷ (Of2 binary.Cons (Of unary.Vi (Number (pos 1))) (Of2 binary.Cons (Of unary.Vi (Number (pos 2))) (Of2 binary.Cons (Of unary.Vi (Number (pos 0))) (Of2 binary.Cons (Of unary.Vi (Number (pos 0))) Nil)))) ∷ []) ([])) s.NoBlock s.End) (s.WithBlock (s.Then 16 (s.If ([]) ((record { lines = ((line.Comb (((pos 1), 4) ∷ ((pos 1), 8) ∷ [])) ∷ []) }) ∷ (record { lines = ((line.Comb (((pos 1), 5) ∷ ((pos 1), 8) ∷ [])) ∷ []) }) ∷ []) ([]) ([])) (s.WithBlock (s.Then 17 (s.Store 0 ([]) ((record { lines = ((line.Comb (((pos 1), 4) ∷ ((pos 1), 9) ∷ [])) ∷ []) }) ∷ (record { lines = ((line.Comb (((pos 1), 5) ∷ ((pos 1), 9) ∷ [])) ∷ []) }) ∷ (record { lines = ((line.Comb (((pos 1), 5) ∷ ((pos 1), 7) ∷ ((pos 1), 9) ∷ [])) ∷ []) }) ∷ [])) s.NoBlock (s.Then 18 (s.Law name_len_upd ((Named name_k2) ∷ (Named name_k1) ∷ (Of unary.Vi (Named name_k1)) ∷ []) ([])) s.NoBlock (s.Then 19 (s.Block 1 (record { opened = []; facts = ([]); locals = ((name_s, (Of unary.Vi (Number (pos 4)))) ∷ (name_t, (Of unary.Vi (Number (pos 0)))) ∷ (name_i, (Of unary.Vi (Of2 binary.Add (Named name_k1) (Number (pos 1))))) ∷ (name_q1, (Global name_g)) ∷ []); items = ((Data (Number (pos 64)) (Global name_arr) (Of3 ternary.Upd (Named name_k2) (Named name_k1) (Of unary.Vi (Named name_k1)))) ∷ (Data (Number (pos 64)) (Global name_g) (Of2 binary.Cons (Of unary.Vi (Number (pos 4))) Nil)) ∷ (Data (Number (pos 64)) (Global name_x) (Of2 binary.Cons (Of unary.Vi (Number (pos 0))) Nil)) ∷ []) }) ([]) ([])) (s.WithBlock (s.Then 20 (s.Set ([]) ((record { lines = ((line.Comb (((pos 1), 4) ∷ ((pos 1), 11) ∷ [])) ∷ []) }) ∷ (record { lines = ((line.Comb (((pos 1), 5) ∷ ((pos 1), 11) ∷ [])) ∷ []) }) ∷ (record { lines = ((line.Comb (((pos 1), 4) ∷ ((pos 1), 11) ∷ [])) ∷ []) }) ∷ (record { lines = ((line.Comb (((pos 1), 5) ∷ ((pos 1), 11) ∷ [])) ∷ []) }) ∷ [])) s.NoBlock (s.Then 21 (s.Fall ([]) ([])) s.NoBlock s.End)) s.NoBlock) (s.Then 22 (s.Continue ((Of2 binary.Add (Named name_k1) (Number (pos 1))) ∷ (Of3 ternary.Upd (Named name_k2) (Named name_k1) (Of unary.Vi (Named name_k1))) ∷ []) ((record { lines = ((line.Comb (((pos 1), 4) ∷ ((pos 1), 11) ∷ [])) ∷ []) }) ∷ (record { lines = ((line.Comb (((pos 1), 9) ∷ ((pos 1), 6) ∷ ((pos 1), 11) ∷ [])) ∷ []) }) ∷ (record { lines = ((line.Comb (((pos 1), 10) ∷ ((pos 1), 7) ∷ ((pos 1), 11) ∷ [])) ∷ []) }) ∷ [])) s.NoBlock s.End)))) (s.WithBlock (s.Then 23 (s.Break ((Named name_k1) ∷ (Named name_k2) ∷ []) ([])) s.NoBlock s.End) s.NoBlock)) s.End) s.NoBlock)) (s.Then 24 (s.If ([]) ((record { lines = ((line.Comb (((pos 1), 4) ∷ ((pos 1), 9) ∷ [])) ∷ []) }) ∷ (record { lines = ((line.Comb (((pos 1), 5) ∷ ((pos 1), 9) ∷ [])) ∷ []) }) ∷ []) ([]) ([])) (s.WithBlock (s.Then 25 (s.Block 0 (record { opened = []; facts = ([]); locals = ((name_s, (Of unary.Vi (Number (pos 4)))) ∷ (name_t, (Of unary.Vi (Number (pos 0)))) ∷ (name_i, (Of unary.Vi (Named name_k3))) ∷ (name_q1, (Global name_g)) ∷ []); items = ((Data (Number (pos 64)) (Global name_arr) (Named name_k4)) ∷ (Data (Number (pos 64)) (Global name_g) (Of2 binary.Cons (Of unary.Vi (Number (pos 4))) Nil)) ∷ (Data (Number (pos 64)) (Global name_x) (Of2 binary.Cons (Of unary.Vi (Number (pos 0))) Nil)) ∷ []) }) ([]) ([])) (s.WithBlock (s.Then 26 (s.Fall ([]) ([])) s.NoBlock s.End) s.NoBlock) (s.Then 27 (s.Set ([]) ([])) s.NoBlock (s.Then 28 (s.Store 1 ([]) ([])) s.NoBlock (s.Then 29 (s.Share 0 (Number (pos 1)) ([])) s.NoBlock (s.Then 30 (s.Load 0 ([]) ([])) s.NoBlock (s.Then 31 (s.Share 0 (Number (pos 1)) ([])) s.NoBlock (s.Then 32 (s.Unshare 4 3 ([])) s.NoBlock (s.Then 33 (s.Return ((Of2 binary.Cons (Of unary.Vi (Number (pos 0))) Nil) ∷ (Named name_k4) ∷ (Of2 binary.Cons (Of unary.Vi (Number (pos 4))) Nil) ∷ []) ([]) ([])) s.NoBlock s.End)))))))) (s.WithBlock (s.Then 34 (s.Absurd ((record { lines = ((line.Comb (((pos 1), 8) ∷ ((pos 1), 9) ∷ [])) ∷ []) }) ∷ [])) s.NoBlock s.End) s.NoBlock)) s.End)))))))))))))) ≡ (RefusedAt 6 4 3)
unfolding computing
random_972 = refl

random_973 : body_verdict (record { predicates = ([]); specs = ((record { is_void = true; name = name_put; params = (name_p ∷ name_k ∷ []); vars = ((name_v, sort.Val) ∷ (name_w, sort.Val) ∷ (name_o, sort.Val) ∷ []); pre = (record { opened = []; facts = ([]); locals = ((name_p, (Var 0 sort.Val)) ∷ (name_k, (Var 1 sort.Val)) ∷ []); items = ((Data (Number (pos 64)) (Var 0 sort.Val) (Of2 binary.Cons (Var 2 sort.Val) Nil)) ∷ []) }); post = (record { opened = []; facts = ([]); locals = []; items = ((Data (Number (pos 64)) (Var 0 sort.Val) (Of2 binary.Cons (Var 1 sort.Val) Nil)) ∷ []) }) }) ∷ (record { is_void = false; name = name_main; params = ([]); vars = []; pre = (record { opened = []; facts = ([]); locals = []; items = ((Data (Number (pos 64)) (Global name_arr) (Of2 binary.Cons (Of unary.Vi (Number (pos 1))) (Of2 binary.Cons (Of unary.Vi (Number (pos 2))) (Of2 binary.Cons (Of unary.Vi (Number (pos 0))) (Of2 binary.Cons (Of unary.Vi (Number (pos 0))) Nil))))) ∷ (Data (Number (pos 63)) (Global name_g) (Of2 binary.Cons (Of unary.Vi (Number (pos 3))) Nil)) ∷ (Data (Number (pos 64)) (Global name_x) (Of2 binary.Cons (Of unary.Vi (Number (pos 3))) Nil)) ∷ []) }); post = (record { opened = (sort.List ∷ sort.List ∷ sort.List ∷ []); facts = ([]); locals = []; items = ((Data (Number (pos 64)) (Global name_x) (Var 1 sort.List)) ∷ (Data (Number (pos 1)) (Global name_arr) (Var 2 sort.List)) ∷ (Data (Number (pos 63)) (Global name_arr) (Var 2 sort.List)) ∷ (Data (Number (pos 64)) (Global name_g) (Var 3 sort.List)) ∷ []) }) }) ∷ []) }) (record { is_void = true; name = name_put; params = (name_p ∷ name_k ∷ []); vars = ((name_v, sort.Val) ∷ (name_w, sort.Val) ∷ (name_o, sort.Val) ∷ []); pre = (record { opened = []; facts = ([]); locals = ((name_p, (Var 0 sort.Val)) ∷ (name_k, (Var 1 sort.Val)) ∷ []); items = ((Data (Number (pos 64)) (Var 0 sort.Val) (Of2 binary.Cons (Var 2 sort.Val) Nil)) ∷ []) }); post = (record { opened = []; facts = ([]); locals = []; items = ((Data (Number (pos 64)) (Var 0 sort.Val) (Of2 binary.Cons (Var 1 sort.Val) Nil)) ∷ []) }) }) (record { temps = (name_p ∷ name_k ∷ []); body = (c.Then (c.Store (root.Temp 0) c.Here (c.Temp 1)) (c.Then (c.Return None) c.End)) }) (s.Then 1 (s.Store 0 ([]) ([])) s.NoBlock (s.Then 2 (s.Return ([]) ([]) ([])) s.NoBlock s.End)) ≡ Accepted
unfolding computing
random_973 = refl

random_974 : body_verdict (record { predicates = ([]); specs = ((record { is_void = true; name = name_put; params = (name_p ∷ name_k ∷ []); vars = ((name_v, sort.Val) ∷ (name_w, sort.Val) ∷ (name_o, sort.Val) ∷ []); pre = (record { opened = []; facts = ([]); locals = ((name_p, (Var 0 sort.Val)) ∷ (name_k, (Var 1 sort.Val)) ∷ []); items = ((Data (Number (pos 64)) (Var 0 sort.Val) (Of2 binary.Cons (Var 2 sort.Val) Nil)) ∷ []) }); post = (record { opened = []; facts = ([]); locals = []; items = ((Data (Number (pos 64)) (Var 0 sort.Val) (Of2 binary.Cons (Var 1 sort.Val) Nil)) ∷ []) }) }) ∷ (record { is_void = false; name = name_main; params = ([]); vars = []; pre = (record { opened = []; facts = ([]); locals = []; items = ((Data (Number (pos 64)) (Global name_arr) (Of2 binary.Cons (Of unary.Vi (Number (pos 1))) (Of2 binary.Cons (Of unary.Vi (Number (pos 2))) (Of2 binary.Cons (Of unary.Vi (Number (pos 0))) (Of2 binary.Cons (Of unary.Vi (Number (pos 0))) Nil))))) ∷ (Data (Number (pos 64)) (Global name_g) (Of2 binary.Cons (Of unary.Vi (Number (pos 3))) Nil)) ∷ (Data (Number (pos 64)) (Global name_x) (Of2 binary.Cons (Of unary.Vi (Number (pos 3))) Nil)) ∷ []) }); post = (record { opened = (sort.List ∷ sort.List ∷ sort.List ∷ []); facts = ([]); locals = []; items = ((Data (Number (pos 64)) (Global name_x) (Var 1 sort.List)) ∷ (Data (Number (pos 1)) (Global name_arr) (Var 2 sort.List)) ∷ (Data (Number (pos 63)) (Global name_arr) (Var 2 sort.List)) ∷ (Data (Number (pos 64)) (Global name_g) (Var 3 sort.List)) ∷ []) }) }) ∷ []) }) (record { is_void = false; name = name_main; params = ([]); vars = []; pre = (record { opened = []; facts = ([]); locals = []; items = ((Data (Number (pos 64)) (Global name_arr) (Of2 binary.Cons (Of unary.Vi (Number (pos 1))) (Of2 binary.Cons (Of unary.Vi (Number (pos 2))) (Of2 binary.Cons (Of unary.Vi (Number (pos 0))) (Of2 binary.Cons (Of unary.Vi (Number (pos 0))) Nil))))) ∷ (Data (Number (pos 64)) (Global name_g) (Of2 binary.Cons (Of unary.Vi (Number (pos 3))) Nil)) ∷ (Data (Number (pos 64)) (Global name_x) (Of2 binary.Cons (Of unary.Vi (Number (pos 3))) Nil)) ∷ []) }); post = (record { opened = (sort.List ∷ sort.List ∷ sort.List ∷ []); facts = ([]); locals = []; items = ((Data (Number (pos 64)) (Global name_x) (Var 1 sort.List)) ∷ (Data (Number (pos 1)) (Global name_arr) (Var 2 sort.List)) ∷ (Data (Number (pos 63)) (Global name_arr) (Var 2 sort.List)) ∷ (Data (Number (pos 64)) (Global name_g) (Var 3 sort.List)) ∷ []) }) }) (record { temps = (name_s ∷ name_t ∷ name_i ∷ name_x1 ∷ name_d0 ∷ name_p1 ∷ name_q1 ∷ []); body = (c.Then (c.Set 0 (c.Const 2)) (c.Then (c.Set 1 (c.Const 0)) (c.Then (c.Set 6 (c.Address (root.Global name_g 1) c.Here)) (c.Then (c.Store (root.Temp 6) c.Here (c.Const 4)) (c.Then (c.Load 0 (root.Temp 6) c.Here) (c.Then (c.Set 0 (c.Binary two.Div kind.Signed (c.Const 2) (c.Const 1))) (c.Then (c.Call None name_put ((c.Address (root.Global name_x 1) c.Here) ∷ (c.Temp 1) ∷ [])) (c.Then (c.Set 0 (c.Binary two.Mul kind.Signed (c.Const 2) (c.Const 2))) (c.Then (c.Set 2 (c.Const 0)) (c.Then (c.Loop (c.Then (c.If (c.Nonzero kind.Signed (c.Binary two.Lt kind.Signed (c.Temp 2) (c.Const 1))) (c.Then (c.Store (root.Global name_arr 4) (c.Index kind.Signed (c.Temp 2) c.Here) (c.Temp 2)) (c.Then (c.Set 2 (c.Binary two.Add kind.Signed (c.Temp 2) (c.Const 1))) (c.Then c.Continue c.End))) (c.Then c.Break c.End)) c.End)) (c.Then (c.If (c.Nonzero kind.Signed (c.Binary two.Gt kind.Signed (c.Temp 2) (c.Temp 1))) (c.Then (c.Set 6 (c.Address (root.Global name_g 1) c.Here)) (c.Then (c.Store (root.Temp 6) c.Here (c.Const 4)) (c.Then (c.Load 0 (root.Temp 6) c.Here) c.End))) c.End) (c.Then (c.Return (Some (c.Temp 0))) c.End)))))))))))) }) (s.Then 1 (s.Set ([]) ([])) s.NoBlock (s.Then 2 (s.Set ([]) ([])) s.NoBlock (s.Then 3 (s.Set ([]) ([])) s.NoBlock (s.Then 4 (s.Bounds 0 None ([])) s.NoBlock (s.Then 5 (s.Bounds 2 None ([])) s.NoBlock (s.Then 6 (s.Store 1 ([]) ([])) s.NoBlock (s.Then 7 (s.Load 1 ([]) ([])) s.NoBlock (s.Then 8 (s.Set ([]) ([])) s.NoBlock (s.Then 9 (s.Block 0 (record { opened = []; facts = ([]); locals = ((name_s, (Of unary.Vi (Number (pos 2)))) ∷ (name_t, (Of unary.Vi (Number (pos 0)))) ∷ (name_q1, (Global name_g)) ∷ []); items = ((Data (Number (pos 64)) (Global name_arr) (Of2 binary.Cons (Of unary.Vi (Number (pos 1))) (Of2 binary.Cons (Of unary.Vi (Number (pos 2))) (Of2 binary.Cons (Of unary.Vi (Number (pos 0))) (Of2 binary.Cons (Of unary.Vi (Number (pos 0))) Nil))))) ∷ (Data (Number (pos 64)) (Global name_g) (Of2 binary.Cons (Of unary.Vi (Number (pos 4))) Nil)) ∷ (Data (Number (pos 64)) (Global name_x) (Of2 binary.Cons (Of unary.Vi (Number (pos 3))) Nil)) ∷ []) }) ([]) ([])) (s.WithBlock (s.Then 10 (s.Fall ([]) ([])) s.NoBlock s.End) s.NoBlock) (s.Then 11 (s.Block 0 (record { opened = []; facts = ([]); locals = ((name_s, (Of unary.Vi (Number (pos 2)))) ∷ (name_t, (Of unary.Vi (Number (pos 0)))) ∷ (name_q1, (Global name_g)) ∷ []); items = ((Data (Number (pos 64)) (Global name_arr) (Of2 binary.Cons (Of unary.Vi (Number (pos 1))) (Of2 binary.Cons (Of unary.Vi (Number (pos 2))) (Of2 binary.Cons (Of unary.Vi (Number (pos 0))) (Of2 binary.Cons (Of unary.Vi (Number (pos 0))) Nil))))) ∷ (Data (Number (pos 64)) (Global name_g) (Of2 binary.Cons (Of unary.Vi (Number (pos 4))) Nil)) ∷ (Data (Number (pos 64)) (Global name_x) (Of2 binary.Cons (Of unary.Vi (Number (pos 3))) Nil)) ∷ []) }) ([]) ([])) (s.WithBlock (s.Then 12 (s.Fall ([]) ([])) s.NoBlock s.End) s.NoBlock) (s.Then 13 (s.Call ((Global name_x) ∷ (Of unary.Vi (Number (pos 0))) ∷ (Of unary.Vi (Number (pos 3))) ∷ []) ([]) ([]) ([])) s.NoBlock (s.Then 14 (s.Set ([]) ([])) s.NoBlock (s.Then 15 (s.Set ([]) ([])) s.NoBlock (s.Then 16 (s.While (record { opened = (sort.Int ∷ sort.List ∷ []); facts = ((Rel relation.Le (Number (pos 0)) (Var 0 sort.Int)) ∷ (Rel relation.Le (Var 0 sort.Int) (Number (pos 1))) ∷ (Rel relation.Eq (Of unary.Len (Var 1 sort.List)) (Number (pos 4))) ∷ []); locals = ((name_s, (Of unary.Vi (Number (pos 4)))) ∷ (name_t, (Of unary.Vi (Number (pos 0)))) ∷ (name_i, (Of unary.Vi (Var 0 sort.Int))) ∷ (name_q1, (Global name_g)) ∷ []); items = ((Data (Number (pos 64)) (Global name_arr) (Var 1 sort.List)) ∷ (Data (Number (pos 64)) (Global name_g) (Of2 binary.Cons (Of unary.Vi (Number (pos 4))) Nil)) ∷ (Data (Number (pos 64)) (Global name_x) (Of2 binary.Cons (Of unary.Vi (Number (pos 0))) Nil)) ∷ []) }) (record { opened = (sort.Int ∷ sort.List ∷ []); facts = ((Rel relation.Le (Number (pos 0)) (Var 0 sort.Int)) ∷ (Rel relation.Le (Var 0 sort.Int) (Number (pos 1))) ∷ (Rel relation.Eq (Of unary.Len (Var 1 sort.List)) (Number (pos 4))) ∷ (Rel relation.Le (Number (pos 1)) (Var 0 sort.Int)) ∷ []); locals = ((name_s, (Of unary.Vi (Number (pos 4)))) ∷ (name_t, (Of unary.Vi (Number (pos 0)))) ∷ (name_i, (Of unary.Vi (Var 0 sort.Int))) ∷ (name_q1, (Global name_g)) ∷ []); items = ((Data (Number (pos 64)) (Global name_arr) (Var 1 sort.List)) ∷ (Data (Number (pos 64)) (Global name_g) (Of2 binary.Cons (Of unary.Vi (Number (pos 4))) Nil)) ∷ (Data (Number (pos 64)) (Global name_x) (Of2 binary.Cons (Of unary.Vi (Number (pos 0))) Nil)) ∷ []) }) (name_k3 ∷ name_k4 ∷ []) ([]) (name_k1 ∷ name_k2 ∷ [])) (s.WithBlock (s.Then 17 (s.Meet ((Number (pos 0)) ∷ (Of2 binary.Cons (Of unary.Vi (Number (pos 1))) (Of2 binary.Cons (Of unary.Vi (Number (pos 2))) (Of2 binary.Cons (Of unary.Vi (Number (pos 0))) (Of2 binary.Cons (Of unary.Vi (Number (pos 0))) Nil)))) ∷ []) ([])) s.NoBlock s.End) (s.WithBlock (s.Then 18 (s.If ([]) ((record { lines = ((line.Comb (((pos 1), 4) ∷ ((pos 1), 8) ∷ [])) ∷ []) }) ∷ (record { lines = ((line.Comb (((pos 1), 5) ∷ ((pos 1), 8) ∷ [])) ∷ []) }) ∷ []) ([]) ([])) (s.WithBlock (s.Then 19 (s.Store 0 ([]) ((record { lines = ((line.Comb (((pos 1), 4) ∷ ((pos 1), 9) ∷ [])) ∷ []) }) ∷ (record { lines = ((line.Comb (((pos 1), 5) ∷ ((pos 1), 9) ∷ [])) ∷ []) }) ∷ (record { lines = ((line.Comb (((pos 1), 5) ∷ ((pos 1), 7) ∷ ((pos 1), 9) ∷ [])) ∷ []) }) ∷ [])) s.NoBlock (s.Then 20 (s.Law name_len_upd ((Named name_k2) ∷ (Named name_k1) ∷ (Of unary.Vi (Named name_k1)) ∷ []) ([])) s.NoBlock (s.Then 21 (s.Block 1 (record { opened = []; facts = ([]); locals = ((name_s, (Of unary.Vi (Number (pos 4)))) ∷ (name_t, (Of unary.Vi (Number (pos 0)))) ∷ (name_i, (Of unary.Vi (Of2 binary.Add (Named name_k1) (Number (pos 1))))) ∷ (name_q1, (Global name_g)) ∷ []); items = ((Data (Number (pos 64)) (Global name_arr) (Of3 ternary.Upd (Named name_k2) (Named name_k1) (Of unary.Vi (Named name_k1)))) ∷ (Data (Number (pos 64)) (Global name_g) (Of2 binary.Cons (Of unary.Vi (Number (pos 4))) Nil)) ∷ (Data (Number (pos 64)) (Global name_x) (Of2 binary.Cons (Of unary.Vi (Number (pos 0))) Nil)) ∷ []) }) ([]) ([])) (s.WithBlock (s.Then 22 (s.Set ([]) ((record { lines = ((line.Comb (((pos 1), 4) ∷ ((pos 1), 11) ∷ [])) ∷ []) }) ∷ (record { lines = ((line.Comb (((pos 1), 5) ∷ ((pos 1), 11) ∷ [])) ∷ []) }) ∷ (record { lines = ((line.Comb (((pos 1), 4) ∷ ((pos 1), 11) ∷ [])) ∷ []) }) ∷ (record { lines = ((line.Comb (((pos 1), 5) ∷ ((pos 1), 11) ∷ [])) ∷ []) }) ∷ [])) s.NoBlock (s.Then 23 (s.Fall ([]) ([])) s.NoBlock s.End)) s.NoBlock) (s.Then 24 (s.Continue ((Of2 binary.Add (Named name_k1) (Number (pos 1))) ∷ (Of3 ternary.Upd (Named name_k2) (Named name_k1) (Of unary.Vi (Named name_k1))) ∷ []) ((record { lines = ((line.Comb (((pos 1), 4) ∷ ((pos 1), 11) ∷ [])) ∷ []) }) ∷ (record { lines = ((line.Comb (((pos 1), 9) ∷ ((pos 1), 6) ∷ ((pos 1), 11) ∷ [])) ∷ []) }) ∷ (record { lines = ((line.Comb (((pos 1), 10) ∷ ((pos 1), 7) ∷ ((pos 1), 11) ∷ [])) ∷ []) }) ∷ [])) s.NoBlock s.End)))) (s.WithBlock (s.Then 25 (s.Break ((Named name_k1) ∷ (Named name_k2) ∷ []) ([])) s.NoBlock s.End) s.NoBlock)) s.End) s.NoBlock)) (s.Then 26 (s.If ([]) ((record { lines = ((line.Comb (((pos 1), 4) ∷ ((pos 1), 9) ∷ [])) ∷ []) }) ∷ (record { lines = ((line.Comb (((pos 1), 5) ∷ ((pos 1), 9) ∷ [])) ∷ []) }) ∷ []) ([]) ([])) (s.WithBlock (s.Then 27 (s.Block 0 (record { opened = []; facts = ([]); locals = ((name_s, (Of unary.Vi (Number (pos 4)))) ∷ (name_t, (Of unary.Vi (Number (pos 0)))) ∷ (name_i, (Of unary.Vi (Named name_k3))) ∷ (name_q1, (Global name_g)) ∷ []); items = ((Data (Number (pos 64)) (Global name_arr) (Named name_k4)) ∷ (Data (Number (pos 64)) (Global name_g) (Of2 binary.Cons (Of unary.Vi (Number (pos 4))) Nil)) ∷ (Data (Number (pos 64)) (Global name_x) (Of2 binary.Cons (Of unary.Vi (Number (pos 0))) Nil)) ∷ []) }) ([]) ([])) (s.WithBlock (s.Then 28 (s.Fall ([]) ([])) s.NoBlock s.End) s.NoBlock) (s.Then 29 (s.Set ([]) ([])) s.NoBlock (s.Then 30 (s.Store 1 ([]) ([])) s.NoBlock (s.Then 31 (s.Share 0 (Number (pos 1)) ([])) s.NoBlock (s.Then 32 (s.Load 0 ([]) ([])) s.NoBlock (s.Then 33 (s.Share 0 (Number (pos 1)) ([])) s.NoBlock (s.Then 34 (s.Unshare 4 3 ([])) s.NoBlock (s.Then 35 (s.Return ((Of2 binary.Cons (Of unary.Vi (Number (pos 0))) Nil) ∷ (Named name_k4) ∷ (Of2 binary.Cons (Of unary.Vi (Number (pos 4))) Nil) ∷ []) ([]) ([])) s.NoBlock s.End)))))))) (s.WithBlock (s.Then 36 (s.Absurd ((record { lines = ((line.Comb (((pos 1), 8) ∷ ((pos 1), 9) ∷ [])) ∷ []) }) ∷ [])) s.NoBlock s.End) s.NoBlock)) s.End))))))))))))))) ≡ Accepted
unfolding computing
random_974 = refl

random_975 : body_verdict (record { predicates = ([]); specs = ((record { is_void = false; name = name_f; params = (name_p00 ∷ name_u1 ∷ name_s2 ∷ []); vars = ((name_v0, sort.Val) ∷ (name_o0, sort.Int) ∷ (name_b1, sort.Int) ∷ (name_w2, sort.Val) ∷ (name_h2, sort.Int) ∷ (name_q2, sort.Val) ∷ []); pre = (record { opened = []; facts = ((Rel relation.Le (Number (pos 0)) (Var 1 sort.Int)) ∷ (Rel relation.Le (Var 1 sort.Int) (Number (pos 20))) ∷ (Rel relation.Le (Number (pos 0)) (Var 2 sort.Int)) ∷ (Rel relation.Le (Var 2 sort.Int) (Number (pos 31))) ∷ (Rel relation.Le (Number (pos 0)) (Var 4 sort.Int)) ∷ (Rel relation.Le (Var 4 sort.Int) (Number (pos 20))) ∷ []); locals = ((name_p00, (Var 0 sort.Val)) ∷ (name_u1, (Of unary.Vi (Var 2 sort.Int))) ∷ (name_s2, (Var 3 sort.Val)) ∷ []); items = ((Data (Number (pos 64)) (Var 0 sort.Val) (Of2 binary.Cons (Of unary.Vi (Var 1 sort.Int)) Nil)) ∷ (Data (Number (pos 64)) (Var 3 sort.Val) (Of2 binary.Cons (Of unary.Vi (Var 4 sort.Int)) (Of2 binary.Cons (Var 5 sort.Val) (Of2 binary.Cons (Of unary.Vi (Number (pos 3))) Nil)))) ∷ []) }); post = (record { opened = (sort.List ∷ sort.List ∷ []); facts = ([]); locals = []; items = ((Data (Number (pos 64)) (Var 0 sort.Val) (Var 7 sort.List)) ∷ (Data (Number (pos 64)) (Var 3 sort.Val) (Var 8 sort.List)) ∷ []) }) }) ∷ (record { is_void = false; name = name_main; params = ([]); vars = []; pre = (record { opened = []; facts = ([]); locals = []; items = ([]) }); post = (record { opened = []; facts = ((Rel relation.Eq (Var 0 sort.Val) (Of unary.Vi (Number (pos 0)))) ∷ []); locals = []; items = ([]) }) }) ∷ []) }) (record { is_void = false; name = name_f; params = (name_p00 ∷ name_u1 ∷ name_s2 ∷ []); vars = ((name_v0, sort.Val) ∷ (name_o0, sort.Int) ∷ (name_b1, sort.Int) ∷ (name_w2, sort.Val) ∷ (name_h2, sort.Int) ∷ (name_q2, sort.Val) ∷ []); pre = (record { opened = []; facts = ((Rel relation.Le (Number (pos 0)) (Var 1 sort.Int)) ∷ (Rel relation.Le (Var 1 sort.Int) (Number (pos 20))) ∷ (Rel relation.Le (Number (pos 0)) (Var 2 sort.Int)) ∷ (Rel relation.Le (Var 2 sort.Int) (Number (pos 31))) ∷ (Rel relation.Le (Number (pos 0)) (Var 4 sort.Int)) ∷ (Rel relation.Le (Var 4 sort.Int) (Number (pos 20))) ∷ []); locals = ((name_p00, (Var 0 sort.Val)) ∷ (name_u1, (Of unary.Vi (Var 2 sort.Int))) ∷ (name_s2, (Var 3 sort.Val)) ∷ []); items = ((Data (Number (pos 64)) (Var 0 sort.Val) (Of2 binary.Cons (Of unary.Vi (Var 1 sort.Int)) Nil)) ∷ (Data (Number (pos 64)) (Var 3 sort.Val) (Of2 binary.Cons (Of unary.Vi (Var 4 sort.Int)) (Of2 binary.Cons (Var 5 sort.Val) (Of2 binary.Cons (Of unary.Vi (Number (pos 3))) Nil)))) ∷ []) }); post = (record { opened = (sort.List ∷ sort.List ∷ []); facts = ([]); locals = []; items = ((Data (Number (pos 64)) (Var 0 sort.Val) (Var 7 sort.List)) ∷ (Data (Number (pos 64)) (Var 3 sort.Val) (Var 8 sort.List)) ∷ []) }) }) (record { temps = (name_p00 ∷ name_u1 ∷ name_s2 ∷ name_s ∷ name_t ∷ name_i ∷ name_x1 ∷ name_d0 ∷ name_p1 ∷ name_q1 ∷ []); body = (c.Then (c.Set 3 (c.Const 1)) (c.Then (c.Set 4 (c.Const 1)) (c.Then (c.Set 5 (c.Const 0)) (c.Then (c.Loop (c.Then (c.If (c.Nonzero kind.Signed (c.Binary two.Lt kind.Signed (c.Temp 5) (c.Const 4))) (c.Then c.Skip (c.Then (c.Set 5 (c.Binary two.Add kind.Signed (c.Temp 5) (c.Const 1))) (c.Then c.Continue c.End))) (c.Then c.Break c.End)) c.End)) (c.Then (c.Set 7 (c.Binary two.Add kind.Signed (c.Const 1) (c.Const 2))) (c.Then (c.Return (Some (c.Temp 3))) c.End)))))) }) (s.Then 1 (s.Split (Rel relation.Le (Named name_o0) (Number (pos 2))) ([]) ([])) (s.WithBlock (s.Then 2 (s.Set ([]) ([])) s.NoBlock (s.Then 3 (s.Apart 1 0 ([])) s.NoBlock (s.Then 4 (s.Set ([]) ([])) s.NoBlock (s.Then 5 (s.Set ([]) ([])) s.NoBlock (s.Then 6 (s.While (record { opened = (sort.Int ∷ []); facts = ((Rel relation.Le (Number (pos 0)) (Var 0 sort.Int)) ∷ (Rel relation.Le (Var 0 sort.Int) (Number (pos 4))) ∷ []); locals = ((name_p00, (Named name_v0)) ∷ (name_u1, (Of unary.Vi (Named name_b1))) ∷ (name_s2, (Named name_w2)) ∷ (name_s, (Of unary.Vi (Number (pos 1)))) ∷ (name_t, (Of unary.Vi (Number (pos 1)))) ∷ (name_i, (Of unary.Vi (Var 0 sort.Int))) ∷ []); items = ((Data (Number (pos 64)) (Named name_v0) (Of2 binary.Cons (Of unary.Vi (Named name_o0)) Nil)) ∷ (Data (Number (pos 64)) (Named name_w2) (Of2 binary.Cons (Of unary.Vi (Named name_h2)) (Of2 binary.Cons (Named name_q2) (Of2 binary.Cons (Of unary.Vi (Number (pos 3))) Nil)))) ∷ []) }) (record { opened = (sort.Int ∷ []); facts = ((Rel relation.Le (Number (pos 0)) (Var 0 sort.Int)) ∷ (Rel relation.Le (Var 0 sort.Int) (Number (pos 4))) ∷ (Rel relation.Le (Number (pos 4)) (Var 0 sort.Int)) ∷ []); locals = ((name_p00, (Named name_v0)) ∷ (name_u1, (Of unary.Vi (Named name_b1))) ∷ (name_s2, (Named name_w2)) ∷ (name_s, (Of unary.Vi (Number (pos 1)))) ∷ (name_t, (Of unary.Vi (Number (pos 1)))) ∷ (name_i, (Of unary.Vi (Var 0 sort.Int))) ∷ []); items = ((Data (Number (pos 64)) (Named name_v0) (Of2 binary.Cons (Of unary.Vi (Named name_o0)) Nil)) ∷ (Data (Number (pos 64)) (Named name_w2) (Of2 binary.Cons (Of unary.Vi (Named name_h2)) (Of2 binary.Cons (Named name_q2) (Of2 binary.Cons (Of unary.Vi (Number (pos 3))) Nil)))) ∷ []) }) (name_k2 ∷ []) ([]) (name_k1 ∷ [])) (s.WithBlock (s.Then 7 (s.Meet ((Number (pos 0)) ∷ []) ([])) s.NoBlock s.End) (s.WithBlock (s.Then 8 (s.If ([]) ((record { lines = ((line.Comb (((pos 1), 7) ∷ ((pos 1), 9) ∷ [])) ∷ []) }) ∷ (record { lines = ((line.Comb (((pos 1), 8) ∷ ((pos 1), 9) ∷ [])) ∷ []) }) ∷ []) ([]) ([])) (s.WithBlock (s.Then 9 s.Skip s.NoBlock (s.Then 10 (s.Set ([]) ((record { lines = ((line.Comb (((pos 1), 7) ∷ ((pos 1), 10) ∷ [])) ∷ []) }) ∷ (record { lines = ((line.Comb (((pos 1), 8) ∷ ((pos 1), 10) ∷ [])) ∷ []) }) ∷ (record { lines = ((line.Comb (((pos 1), 7) ∷ ((pos 1), 10) ∷ [])) ∷ []) }) ∷ (record { lines = ((line.Comb (((pos 1), 8) ∷ ((pos 1), 10) ∷ [])) ∷ []) }) ∷ [])) s.NoBlock (s.Then 11 (s.Continue ((Of2 binary.Add (Named name_k1) (Number (pos 1))) ∷ []) ((record { lines = ((line.Comb (((pos 1), 7) ∷ ((pos 1), 10) ∷ [])) ∷ []) }) ∷ [])) s.NoBlock s.End))) (s.WithBlock (s.Then 12 (s.Break ((Named name_k1) ∷ []) ([])) s.NoBlock s.End) s.NoBlock)) s.End) s.NoBlock)) (s.Then 13 (s.Set ([]) ([])) s.NoBlock (s.Then 14 (s.Law name_sub_one ((Of2 binary.Cons (Of unary.Vi (Named name_o0)) Nil) ∷ (Number (pos 0)) ∷ []) ([])) s.NoBlock (s.Then 15 (s.Return ((Of2 binary.Cons (Of unary.Vi (Named name_o0)) Nil) ∷ (Of2 binary.Cons (Of unary.Vi (Named name_h2)) (Of2 binary.Cons (Named name_q2) (Of2 binary.Cons (Of unary.Vi (Number (pos 3))) Nil))) ∷ []) ([]) ([])) s.NoBlock s.End)))))))) (s.WithBlock (s.Then 16 (s.Set ([]) ([])) s.NoBlock (s.Then 17 (s.Apart 1 0 ([])) s.NoBlock (s.Then 18 (s.Set ([]) ([])) s.NoBlock (s.Then 19 (s.Set ([]) ([])) s.NoBlock (s.Then 20 (s.While (record { opened = (sort.Int ∷ []); facts = ((Rel relation.Le (Number (pos 0)) (Var 0 sort.Int)) ∷ (Rel relation.Le (Var 0 sort.Int) (Number (pos 4))) ∷ []); locals = ((name_p00, (Named name_v0)) ∷ (name_u1, (Of unary.Vi (Named name_b1))) ∷ (name_s2, (Named name_w2)) ∷ (name_s, (Of unary.Vi (Number (pos 1)))) ∷ (name_t, (Of unary.Vi (Number (pos 1)))) ∷ (name_i, (Of unary.Vi (Var 0 sort.Int))) ∷ []); items = ((Data (Number (pos 64)) (Named name_v0) (Of2 binary.Cons (Of unary.Vi (Named name_o0)) Nil)) ∷ (Data (Number (pos 64)) (Named name_w2) (Of2 binary.Cons (Of unary.Vi (Named name_h2)) (Of2 binary.Cons (Named name_q2) (Of2 binary.Cons (Of unary.Vi (Number (pos 3))) Nil)))) ∷ []) }) (record { opened = (sort.Int ∷ []); facts = ((Rel relation.Le (Number (pos 0)) (Var 0 sort.Int)) ∷ (Rel relation.Le (Var 0 sort.Int) (Number (pos 4))) ∷ (Rel relation.Le (Number (pos 4)) (Var 0 sort.Int)) ∷ []); locals = ((name_p00, (Named name_v0)) ∷ (name_u1, (Of unary.Vi (Named name_b1))) ∷ (name_s2, (Named name_w2)) ∷ (name_s, (Of unary.Vi (Number (pos 1)))) ∷ (name_t, (Of unary.Vi (Number (pos 1)))) ∷ (name_i, (Of unary.Vi (Var 0 sort.Int))) ∷ []); items = ((Data (Number (pos 64)) (Named name_v0) (Of2 binary.Cons (Of unary.Vi (Named name_o0)) Nil)) ∷ (Data (Number (pos 64)) (Named name_w2) (Of2 binary.Cons (Of unary.Vi (Named name_h2)) (Of2 binary.Cons (Named name_q2) (Of2 binary.Cons (Of unary.Vi (Number (pos 3))) Nil)))) ∷ []) }) (name_k4 ∷ []) ([]) (name_k3 ∷ [])) (s.WithBlock (s.Then 21 (s.Meet ((Number (pos 0)) ∷ []) ([])) s.NoBlock s.End) (s.WithBlock (s.Then 22 (s.If ([]) ((record { lines = ((line.Comb (((pos 1), 7) ∷ ((pos 1), 9) ∷ [])) ∷ []) }) ∷ (record { lines = ((line.Comb (((pos 1), 8) ∷ ((pos 1), 9) ∷ [])) ∷ []) }) ∷ []) ([]) ([])) (s.WithBlock (s.Then 23 (s.Bounds 0 None ([])) s.NoBlock (s.Then 24 s.Skip s.NoBlock (s.Then 25 (s.Set ([]) ((record { lines = ((line.Comb (((pos 1), 7) ∷ ((pos 1), 12) ∷ [])) ∷ []) }) ∷ (record { lines = ((line.Comb (((pos 1), 8) ∷ ((pos 1), 12) ∷ [])) ∷ []) }) ∷ (record { lines = ((line.Comb (((pos 1), 7) ∷ ((pos 1), 12) ∷ [])) ∷ []) }) ∷ (record { lines = ((line.Comb (((pos 1), 8) ∷ ((pos 1), 12) ∷ [])) ∷ []) }) ∷ [])) s.NoBlock (s.Then 26 (s.Continue ((Of2 binary.Add (Named name_k3) (Number (pos 1))) ∷ []) ((record { lines = ((line.Comb (((pos 1), 7) ∷ ((pos 1), 12) ∷ [])) ∷ []) }) ∷ [])) s.NoBlock s.End)))) (s.WithBlock (s.Then 27 (s.Break ((Named name_k3) ∷ []) ([])) s.NoBlock s.End) s.NoBlock)) s.End) s.NoBlock)) (s.Then 28 (s.Set ([]) ([])) s.NoBlock (s.Then 29 (s.Return ((Of2 binary.Cons (Of unary.Vi (Named name_o0)) Nil) ∷ (Of2 binary.Cons (Of unary.Vi (Named name_h2)) (Of2 binary.Cons (Named name_q2) (Of2 binary.Cons (Of unary.Vi (Number (pos 3))) Nil))) ∷ []) ([]) ([])) s.NoBlock s.End))))))) s.NoBlock)) s.End) ≡ Accepted
unfolding computing
random_975 = refl

random_976 : body_verdict (record { predicates = ([]); specs = ((record { is_void = false; name = name_f; params = (name_p00 ∷ name_u1 ∷ name_s2 ∷ []); vars = ((name_v0, sort.Val) ∷ (name_o0, sort.Int) ∷ (name_b1, sort.Int) ∷ (name_w2, sort.Val) ∷ (name_h2, sort.Int) ∷ (name_q2, sort.Val) ∷ []); pre = (record { opened = []; facts = ((Rel relation.Le (Number (pos 0)) (Var 1 sort.Int)) ∷ (Rel relation.Le (Var 1 sort.Int) (Number (pos 20))) ∷ (Rel relation.Le (Number (pos 0)) (Var 2 sort.Int)) ∷ (Rel relation.Le (Var 2 sort.Int) (Number (pos 31))) ∷ (Rel relation.Le (Number (pos 0)) (Var 4 sort.Int)) ∷ (Rel relation.Le (Var 4 sort.Int) (Number (pos 20))) ∷ []); locals = ((name_p00, (Var 0 sort.Val)) ∷ (name_u1, (Of unary.Vi (Var 2 sort.Int))) ∷ (name_s2, (Var 3 sort.Val)) ∷ []); items = ((Data (Number (pos 64)) (Var 0 sort.Val) (Of2 binary.Cons (Of unary.Vi (Var 1 sort.Int)) Nil)) ∷ (Data (Number (pos 64)) (Var 3 sort.Val) (Of2 binary.Cons (Of unary.Vi (Var 4 sort.Int)) (Of2 binary.Cons (Var 5 sort.Val) (Of2 binary.Cons (Of unary.Vi (Number (pos 3))) Nil)))) ∷ []) }); post = (record { opened = (sort.List ∷ sort.List ∷ []); facts = ([]); locals = []; items = ((Data (Number (pos 64)) (Var 0 sort.Val) (Var 7 sort.List)) ∷ (Data (Number (pos 64)) (Var 3 sort.Val) (Var 8 sort.List)) ∷ []) }) }) ∷ (record { is_void = false; name = name_main; params = ([]); vars = []; pre = (record { opened = []; facts = ([]); locals = []; items = ([]) }); post = (record { opened = []; facts = ((Rel relation.Eq (Var 0 sort.Val) (Of unary.Vi (Number (pos 0)))) ∷ []); locals = []; items = ([]) }) }) ∷ []) }) (record { is_void = false; name = name_main; params = ([]); vars = []; pre = (record { opened = []; facts = ([]); locals = []; items = ([]) }); post = (record { opened = []; facts = ((Rel relation.Eq (Var 0 sort.Val) (Of unary.Vi (Number (pos 0)))) ∷ []); locals = []; items = ([]) }) }) (record { temps = ([]); body = (c.Then (c.Return (Some (c.Const 0))) c.End) }) (s.Then 1 (s.Return ([]) ([]) ([])) s.NoBlock s.End) ≡ Accepted
unfolding computing
random_976 = refl

random_977 : body_verdict (record { predicates = ([]); specs = ((record { is_void = false; name = name_f; params = (name_p00 ∷ name_u1 ∷ name_s2 ∷ []); vars = ((name_v0, sort.Val) ∷ (name_o0, sort.Int) ∷ (name_b1, sort.Int) ∷ (name_w2, sort.Val) ∷ (name_h2, sort.Int) ∷ (name_q2, sort.Val) ∷ []); pre = (record { opened = []; facts = ((Rel relation.Le (Number (pos 0)) (Var 1 sort.Int)) ∷ (Rel relation.Le (Var 1 sort.Int) (Number (pos 20))) ∷ (Rel relation.Le (Number (pos 0)) (Var 2 sort.Int)) ∷ (Rel relation.Le (Var 2 sort.Int) (Number (pos 31))) ∷ (Rel relation.Le (Number (pos 0)) (Var 4 sort.Int)) ∷ (Rel relation.Le (Var 4 sort.Int) (Number (pos 20))) ∷ []); locals = ((name_p00, (Var 0 sort.Val)) ∷ (name_u1, (Of unary.Vi (Var 2 sort.Int))) ∷ (name_s2, (Var 3 sort.Val)) ∷ []); items = ((Data (Number (pos 64)) (Var 0 sort.Val) (Of2 binary.Cons (Of unary.Vi (Var 1 sort.Int)) Nil)) ∷ (Data (Number (pos 64)) (Var 3 sort.Val) (Of2 binary.Cons (Of unary.Vi (Var 4 sort.Int)) (Of2 binary.Cons (Var 5 sort.Val) (Of2 binary.Cons (Of unary.Vi (Number (pos 3))) Nil)))) ∷ []) }); post = (record { opened = (sort.List ∷ sort.List ∷ []); facts = ([]); locals = []; items = ((Data (Number (pos 2147483647)) (Var 0 sort.Val) (Var 7 sort.List)) ∷ (Data (Number (pos 64)) (Var 3 sort.Val) (Var 8 sort.List)) ∷ []) }) }) ∷ (record { is_void = false; name = name_main; params = ([]); vars = []; pre = (record { opened = []; facts = ([]); locals = []; items = ([]) }); post = (record { opened = []; facts = ((Rel relation.Eq (Var 0 sort.Val) (Of unary.Vi (Number (pos 0)))) ∷ []); locals = []; items = ([]) }) }) ∷ []) }) (record { is_void = false; name = name_f; params = (name_p00 ∷ name_u1 ∷ name_s2 ∷ []); vars = ((name_v0, sort.Val) ∷ (name_o0, sort.Int) ∷ (name_b1, sort.Int) ∷ (name_w2, sort.Val) ∷ (name_h2, sort.Int) ∷ (name_q2, sort.Val) ∷ []); pre = (record { opened = []; facts = ((Rel relation.Le (Number (pos 0)) (Var 1 sort.Int)) ∷ (Rel relation.Le (Var 1 sort.Int) (Number (pos 20))) ∷ (Rel relation.Le (Number (pos 0)) (Var 2 sort.Int)) ∷ (Rel relation.Le (Var 2 sort.Int) (Number (pos 31))) ∷ (Rel relation.Le (Number (pos 0)) (Var 4 sort.Int)) ∷ (Rel relation.Le (Var 4 sort.Int) (Number (pos 20))) ∷ []); locals = ((name_p00, (Var 0 sort.Val)) ∷ (name_u1, (Of unary.Vi (Var 2 sort.Int))) ∷ (name_s2, (Var 3 sort.Val)) ∷ []); items = ((Data (Number (pos 64)) (Var 0 sort.Val) (Of2 binary.Cons (Of unary.Vi (Var 1 sort.Int)) Nil)) ∷ (Data (Number (pos 64)) (Var 3 sort.Val) (Of2 binary.Cons (Of unary.Vi (Var 4 sort.Int)) (Of2 binary.Cons (Var 5 sort.Val) (Of2 binary.Cons (Of unary.Vi (Number (pos 3))) Nil)))) ∷ []) }); post = (record { opened = (sort.List ∷ sort.List ∷ []); facts = ([]); locals = []; items = ((Data (Number (pos 2147483647)) (Var 0 sort.Val) (Var 7 sort.List)) ∷ (Data (Number (pos 64)) (Var 3 sort.Val) (Var 8 sort.List)) ∷ []) }) }) (record { temps = (name_p00 ∷ name_u1 ∷ name_s2 ∷ name_s ∷ name_t ∷ name_i ∷ name_x1 ∷ name_d0 ∷ name_p1 ∷ name_q1 ∷ []); body = (c.Then (c.Set 3 (c.Const 1)) (c.Then (c.Set 4 (c.Const 1)) (c.Then (c.Set 5 (c.Const 0)) (c.Then (c.Loop (c.Then (c.If (c.Nonzero kind.Signed (c.Binary two.Lt kind.Signed (c.Temp 5) (c.Const 4))) (c.Then c.Skip (c.Then (c.Set 5 (c.Binary two.Add kind.Signed (c.Temp 5) (c.Const 1))) (c.Then c.Continue c.End))) (c.Then c.Break c.End)) c.End)) (c.Then (c.Set 7 (c.Binary two.Add kind.Signed (c.Const 1) (c.Const 2))) (c.Then (c.Return (Some (c.Temp 3))) c.End)))))) }) (s.Then 1 (s.Split (Rel relation.Le (Named name_o0) (Number (pos 2))) ([]) ([])) (s.WithBlock (s.Then 2 (s.Set ([]) ([])) s.NoBlock (s.Then 3 (s.Apart 1 0 ([])) s.NoBlock (s.Then 4 (s.Set ([]) ([])) s.NoBlock (s.Then 5 (s.Set ([]) ([])) s.NoBlock (s.Then 6 (s.While (record { opened = (sort.Int ∷ []); facts = ((Rel relation.Le (Number (pos 0)) (Var 0 sort.Int)) ∷ (Rel relation.Le (Var 0 sort.Int) (Number (pos 4))) ∷ []); locals = ((name_p00, (Named name_v0)) ∷ (name_u1, (Of unary.Vi (Named name_b1))) ∷ (name_s2, (Named name_w2)) ∷ (name_s, (Of unary.Vi (Number (pos 1)))) ∷ (name_t, (Of unary.Vi (Number (pos 1)))) ∷ (name_i, (Of unary.Vi (Var 0 sort.Int))) ∷ []); items = ((Data (Number (pos 64)) (Named name_v0) (Of2 binary.Cons (Of unary.Vi (Named name_o0)) Nil)) ∷ (Data (Number (pos 64)) (Named name_w2) (Of2 binary.Cons (Of unary.Vi (Named name_h2)) (Of2 binary.Cons (Named name_q2) (Of2 binary.Cons (Of unary.Vi (Number (pos 3))) Nil)))) ∷ []) }) (record { opened = (sort.Int ∷ []); facts = ((Rel relation.Le (Number (pos 0)) (Var 0 sort.Int)) ∷ (Rel relation.Le (Var 0 sort.Int) (Number (pos 4))) ∷ (Rel relation.Le (Number (pos 4)) (Var 0 sort.Int)) ∷ []); locals = ((name_p00, (Named name_v0)) ∷ (name_u1, (Of unary.Vi (Named name_b1))) ∷ (name_s2, (Named name_w2)) ∷ (name_s, (Of unary.Vi (Number (pos 1)))) ∷ (name_t, (Of unary.Vi (Number (pos 1)))) ∷ (name_i, (Of unary.Vi (Var 0 sort.Int))) ∷ []); items = ((Data (Number (pos 64)) (Named name_v0) (Of2 binary.Cons (Of unary.Vi (Named name_o0)) Nil)) ∷ (Data (Number (pos 64)) (Named name_w2) (Of2 binary.Cons (Of unary.Vi (Named name_h2)) (Of2 binary.Cons (Named name_q2) (Of2 binary.Cons (Of unary.Vi (Number (pos 3))) Nil)))) ∷ []) }) (name_k2 ∷ []) ([]) (name_k1 ∷ [])) (s.WithBlock (s.Then 7 (s.Meet ((Number (pos 0)) ∷ []) ([])) s.NoBlock s.End) (s.WithBlock (s.Then 8 (s.If ([]) ((record { lines = ((line.Comb (((pos 1), 7) ∷ ((pos 1), 9) ∷ [])) ∷ []) }) ∷ (record { lines = ((line.Comb (((pos 1), 8) ∷ ((pos 1), 9) ∷ [])) ∷ []) }) ∷ []) ([]) ([])) (s.WithBlock (s.Then 9 s.Skip s.NoBlock (s.Then 10 (s.Set ([]) ((record { lines = ((line.Comb (((pos 1), 7) ∷ ((pos 1), 10) ∷ [])) ∷ []) }) ∷ (record { lines = ((line.Comb (((pos 1), 8) ∷ ((pos 1), 10) ∷ [])) ∷ []) }) ∷ (record { lines = ((line.Comb (((pos 1), 7) ∷ ((pos 1), 10) ∷ [])) ∷ []) }) ∷ (record { lines = ((line.Comb (((pos 1), 8) ∷ ((pos 1), 10) ∷ [])) ∷ []) }) ∷ [])) s.NoBlock (s.Then 11 (s.Continue ((Of2 binary.Add (Named name_k1) (Number (pos 1))) ∷ []) ((record { lines = ((line.Comb (((pos 1), 7) ∷ ((pos 1), 10) ∷ [])) ∷ []) }) ∷ [])) s.NoBlock s.End))) (s.WithBlock (s.Then 12 (s.Break ((Named name_k1) ∷ []) ([])) s.NoBlock s.End) s.NoBlock)) s.End) s.NoBlock)) (s.Then 13 (s.Set ([]) ([])) s.NoBlock (s.Then 14 (s.Return ((Of2 binary.Cons (Of unary.Vi (Named name_o0)) Nil) ∷ (Of2 binary.Cons (Of unary.Vi (Named name_h2)) (Of2 binary.Cons (Named name_q2) (Of2 binary.Cons (Of unary.Vi (Number (pos 3))) Nil))) ∷ []) ([]) ([])) s.NoBlock s.End))))))) (s.WithBlock (s.Then 15 (s.Set ([]) ([])) s.NoBlock (s.Then 16 (s.Apart 1 0 ([])) s.NoBlock (s.Then 17 (s.Set ([]) ([])) s.NoBlock (s.Then 18 (s.Set ([]) ([])) s.NoBlock (s.Then 19 (s.While (record { opened = (sort.Int ∷ []); facts = ((Rel relation.Le (Number (pos 0)) (Var 0 sort.Int)) ∷ (Rel relation.Le (Var 0 sort.Int) (Number (pos 4))) ∷ []); locals = ((name_p00, (Named name_v0)) ∷ (name_u1, (Of unary.Vi (Named name_b1))) ∷ (name_s2, (Named name_w2)) ∷ (name_s, (Of unary.Vi (Number (pos 1)))) ∷ (name_t, (Of unary.Vi (Number (pos 1)))) ∷ (name_i, (Of unary.Vi (Var 0 sort.Int))) ∷ []); items = ((Data (Number (pos 64)) (Named name_v0) (Of2 binary.Cons (Of unary.Vi (Named name_o0)) Nil)) ∷ (Data (Number (pos 64)) (Named name_w2) (Of2 binary.Cons (Of unary.Vi (Named name_h2)) (Of2 binary.Cons (Named name_q2) (Of2 binary.Cons (Of unary.Vi (Number (pos 3))) Nil)))) ∷ []) }) (record { opened = (sort.Int ∷ []); facts = ((Rel relation.Le (Number (pos 0)) (Var 0 sort.Int)) ∷ (Rel relation.Le (Var 0 sort.Int) (Number (pos 4))) ∷ (Rel relation.Le (Number (pos 4)) (Var 0 sort.Int)) ∷ []); locals = ((name_p00, (Named name_v0)) ∷ (name_u1, (Of unary.Vi (Named name_b1))) ∷ (name_s2, (Named name_w2)) ∷ (name_s, (Of unary.Vi (Number (pos 1)))) ∷ (name_t, (Of unary.Vi (Number (pos 1)))) ∷ (name_i, (Of unary.Vi (Var 0 sort.Int))) ∷ []); items = ((Data (Number (pos 64)) (Named name_v0) (Of2 binary.Cons (Of unary.Vi (Named name_o0)) Nil)) ∷ (Data (Number (pos 64)) (Named name_w2) (Of2 binary.Cons (Of unary.Vi (Named name_h2)) (Of2 binary.Cons (Named name_q2) (Of2 binary.Cons (Of unary.Vi (Number (pos 3))) Nil)))) ∷ []) }) (name_k4 ∷ []) ([]) (name_k3 ∷ [])) (s.WithBlock (s.Then 20 (s.Meet ((Number (pos 0)) ∷ []) ([])) s.NoBlock s.End) (s.WithBlock (s.Then 21 (s.If ([]) ((record { lines = ((line.Comb (((pos 1), 7) ∷ ((pos 1), 9) ∷ [])) ∷ []) }) ∷ (record { lines = ((line.Comb (((pos 1), 8) ∷ ((pos 1), 9) ∷ [])) ∷ []) }) ∷ []) ([]) ([])) (s.WithBlock (s.Then 22 (s.Bounds 0 None ([])) s.NoBlock (s.Then 23 s.Skip s.NoBlock (s.Then 24 (s.Set ([]) ((record { lines = ((line.Comb (((pos 1), 7) ∷ ((pos 1), 12) ∷ [])) ∷ []) }) ∷ (record { lines = ((line.Comb (((pos 1), 8) ∷ ((pos 1), 12) ∷ [])) ∷ []) }) ∷ (record { lines = ((line.Comb (((pos 1), 7) ∷ ((pos 1), 12) ∷ [])) ∷ []) }) ∷ (record { lines = ((line.Comb (((pos 1), 8) ∷ ((pos 1), 12) ∷ [])) ∷ []) }) ∷ [])) s.NoBlock (s.Then 25 (s.Continue ((Of2 binary.Add (Named name_k3) (Number (pos 1))) ∷ []) ((record { lines = ((line.Comb (((pos 1), 7) ∷ ((pos 1), 12) ∷ [])) ∷ []) }) ∷ [])) s.NoBlock s.End)))) (s.WithBlock (s.Then 26 (s.Break ((Named name_k3) ∷ []) ([])) s.NoBlock s.End) s.NoBlock)) s.End) s.NoBlock)) (s.Then 27 (s.Set ([]) ([])) s.NoBlock (s.Then 28 (s.Return ((Of2 binary.Cons (Of unary.Vi (Named name_o0)) Nil) ∷ (Of2 binary.Cons (Of unary.Vi (Named name_h2)) (Of2 binary.Cons (Named name_q2) (Of2 binary.Cons (Of unary.Vi (Number (pos 3))) Nil))) ∷ []) ([]) ([])) s.NoBlock s.End))))))) s.NoBlock)) s.End) ≡ (RefusedAt 14 9 5)
unfolding computing
random_977 = refl

random_978 : body_verdict (record { predicates = ([]); specs = ((record { is_void = false; name = name_f; params = (name_p00 ∷ name_u1 ∷ name_s2 ∷ []); vars = ((name_v0, sort.Val) ∷ (name_o0, sort.Int) ∷ (name_b1, sort.Int) ∷ (name_w2, sort.Val) ∷ (name_h2, sort.Int) ∷ (name_q2, sort.Val) ∷ []); pre = (record { opened = []; facts = ((Rel relation.Le (Number (pos 0)) (Var 1 sort.Int)) ∷ (Rel relation.Le (Var 1 sort.Int) (Number (pos 20))) ∷ (Rel relation.Le (Number (pos 0)) (Var 2 sort.Int)) ∷ (Rel relation.Le (Var 2 sort.Int) (Number (pos 31))) ∷ (Rel relation.Le (Number (pos 0)) (Var 4 sort.Int)) ∷ (Rel relation.Le (Var 4 sort.Int) (Number (pos 20))) ∷ []); locals = ((name_p00, (Var 0 sort.Val)) ∷ (name_u1, (Of unary.Vi (Var 2 sort.Int))) ∷ (name_s2, (Var 3 sort.Val)) ∷ []); items = ((Data (Number (pos 64)) (Var 0 sort.Val) (Of2 binary.Cons (Of unary.Vi (Var 1 sort.Int)) Nil)) ∷ (Data (Number (pos 64)) (Var 3 sort.Val) (Of2 binary.Cons (Of unary.Vi (Var 4 sort.Int)) (Of2 binary.Cons (Var 5 sort.Val) (Of2 binary.Cons (Of unary.Vi (Number (pos 3))) Nil)))) ∷ []) }); post = (record { opened = (sort.List ∷ sort.List ∷ []); facts = ([]); locals = []; items = ((Data (Number (pos 2147483647)) (Var 0 sort.Val) (Var 7 sort.List)) ∷ (Data (Number (pos 64)) (Var 3 sort.Val) (Var 8 sort.List)) ∷ []) }) }) ∷ (record { is_void = false; name = name_main; params = ([]); vars = []; pre = (record { opened = []; facts = ([]); locals = []; items = ([]) }); post = (record { opened = []; facts = ((Rel relation.Eq (Var 0 sort.Val) (Of unary.Vi (Number (pos 0)))) ∷ []); locals = []; items = ([]) }) }) ∷ []) }) (record { is_void = false; name = name_main; params = ([]); vars = []; pre = (record { opened = []; facts = ([]); locals = []; items = ([]) }); post = (record { opened = []; facts = ((Rel relation.Eq (Var 0 sort.Val) (Of unary.Vi (Number (pos 0)))) ∷ []); locals = []; items = ([]) }) }) (record { temps = ([]); body = (c.Then (c.Return (Some (c.Const 0))) c.End) }) (s.Then 1 (s.Return ([]) ([]) ([])) s.NoBlock s.End) ≡ Accepted
unfolding computing
random_978 = refl

random_979 : body_verdict (record { predicates = ([]); specs = ((record { is_void = false; name = name_f; params = (name_p00 ∷ name_u1 ∷ name_s2 ∷ []); vars = ((name_v0, sort.Val) ∷ (name_o0, sort.Int) ∷ (name_b1, sort.Int) ∷ (name_w2, sort.Val) ∷ (name_h2, sort.Int) ∷ (name_q2, sort.Val) ∷ []); pre = (record { opened = []; facts = ((Rel relation.Le (Number (pos 0)) (Var 1 sort.Int)) ∷ (Rel relation.Le (Var 1 sort.Int) (Number (pos 20))) ∷ (Rel relation.Le (Number (pos 0)) (Var 2 sort.Int)) ∷ (Rel relation.Le (Var 2 sort.Int) (Number (pos 31))) ∷ (Rel relation.Le (Number (pos 0)) (Var 4 sort.Int)) ∷ (Rel relation.Le (Var 4 sort.Int) (Number (pos 20))) ∷ []); locals = ((name_p00, (Var 0 sort.Val)) ∷ (name_u1, (Of unary.Vi (Var 2 sort.Int))) ∷ (name_s2, (Var 3 sort.Val)) ∷ []); items = ((Data (Number (pos 64)) (Var 0 sort.Val) (Of2 binary.Cons (Of unary.Vi (Var 1 sort.Int)) Nil)) ∷ (Data (Number (pos 64)) (Var 3 sort.Val) (Of2 binary.Cons (Of unary.Vi (Var 4 sort.Int)) (Of2 binary.Cons (Var 5 sort.Val) (Of2 binary.Cons (Of unary.Vi (Number (pos 3))) Nil)))) ∷ []) }); post = (record { opened = (sort.List ∷ sort.List ∷ []); facts = ([]); locals = []; items = ((Data (Number (pos 64)) (Var 0 sort.Val) (Var 7 sort.List)) ∷ (Data (Number (pos 64)) (Var 3 sort.Val) (Var 8 sort.List)) ∷ []) }) }) ∷ (record { is_void = false; name = name_main; params = ([]); vars = []; pre = (record { opened = []; facts = ([]); locals = []; items = ([]) }); post = (record { opened = []; facts = ((Rel relation.Eq (Var 0 sort.Val) (Of unary.Vi (Number (pos 0)))) ∷ []); locals = []; items = ([]) }) }) ∷ []) }) (record { is_void = false; name = name_f; params = (name_p00 ∷ name_u1 ∷ name_s2 ∷ []); vars = ((name_v0, sort.Val) ∷ (name_o0, sort.Int) ∷ (name_b1, sort.Int) ∷ (name_w2, sort.Val) ∷ (name_h2, sort.Int) ∷ (name_q2, sort.Val) ∷ []); pre = (record { opened = []; facts = ((Rel relation.Le (Number (pos 0)) (Var 1 sort.Int)) ∷ (Rel relation.Le (Var 1 sort.Int) (Number (pos 20))) ∷ (Rel relation.Le (Number (pos 0)) (Var 2 sort.Int)) ∷ (Rel relation.Le (Var 2 sort.Int) (Number (pos 31))) ∷ (Rel relation.Le (Number (pos 0)) (Var 4 sort.Int)) ∷ (Rel relation.Le (Var 4 sort.Int) (Number (pos 20))) ∷ []); locals = ((name_p00, (Var 0 sort.Val)) ∷ (name_u1, (Of unary.Vi (Var 2 sort.Int))) ∷ (name_s2, (Var 3 sort.Val)) ∷ []); items = ((Data (Number (pos 64)) (Var 0 sort.Val) (Of2 binary.Cons (Of unary.Vi (Var 1 sort.Int)) Nil)) ∷ (Data (Number (pos 64)) (Var 3 sort.Val) (Of2 binary.Cons (Of unary.Vi (Var 4 sort.Int)) (Of2 binary.Cons (Var 5 sort.Val) (Of2 binary.Cons (Of unary.Vi (Number (pos 3))) Nil)))) ∷ []) }); post = (record { opened = (sort.List ∷ sort.List ∷ []); facts = ([]); locals = []; items = ((Data (Number (pos 64)) (Var 0 sort.Val) (Var 7 sort.List)) ∷ (Data (Number (pos 64)) (Var 3 sort.Val) (Var 8 sort.List)) ∷ []) }) }) (record { temps = (name_p00 ∷ name_u1 ∷ name_s2 ∷ name_s ∷ name_t ∷ name_i ∷ name_x1 ∷ name_d0 ∷ name_p1 ∷ name_q1 ∷ []); body = (c.Then (c.Set 3 (c.Const 1)) (c.Then (c.Set 4 (c.Const 1)) (c.Then (c.Set 5 (c.Const 0)) (c.Then (c.Loop (c.Then (c.If (c.Nonzero kind.Signed (c.Binary two.Lt kind.Signed (c.Temp 5) (c.Const 4))) (c.Then c.Skip (c.Then (c.Set 5 (c.Binary two.Add kind.Signed (c.Temp 5) (c.Const 1))) (c.Then c.Continue c.End))) (c.Then c.Break c.End)) c.End)) (c.Then (c.Set 7 (c.Binary two.Add kind.Signed (c.Const 1) (c.Const 2))) (c.Then (c.Return (Some (c.Temp 3))) c.End)))))) }) (s.Then 1 (s.Split (Rel relation.Le (Named name_o0) (Number (pos 2))) ([]) ([])) (s.WithBlock (s.Then 2 (s.Set ([]) ([])) s.NoBlock (s.Then 3 (s.Apart 1 0 ([])) s.NoBlock (s.Then 4 (s.Set ([]) ([])) s.NoBlock (s.Then 5 (s.Set ([]) ([])) s.NoBlock (s.Then 6 (s.While (record { opened = (sort.Int ∷ []); facts = ((Rel relation.Le (Number (pos 0)) (Var 0 sort.Int)) ∷ (Rel relation.Le (Var 0 sort.Int) (Number (pos 4))) ∷ []); locals = ((name_p00, (Named name_v0)) ∷ (name_u1, (Of unary.Vi (Named name_b1))) ∷ (name_s2, (Named name_w2)) ∷ (name_s, (Of unary.Vi (Number (pos 1)))) ∷ (name_t, (Of unary.Vi (Number (pos 1)))) ∷ (name_i, (Of unary.Vi (Var 0 sort.Int))) ∷ []); items = ((Data (Number (pos 64)) (Named name_v0) (Of2 binary.Cons (Of unary.Vi (Named name_o0)) Nil)) ∷ (Data (Number (pos 64)) (Named name_w2) (Of2 binary.Cons (Of unary.Vi (Named name_h2)) (Of2 binary.Cons (Named name_q2) (Of2 binary.Cons (Of unary.Vi (Number (pos 3))) Nil)))) ∷ []) }) (record { opened = (sort.Int ∷ []); facts = ((Rel relation.Le (Number (pos 0)) (Var 0 sort.Int)) ∷ (Rel relation.Le (Var 0 sort.Int) (Number (pos 4))) ∷ (Rel relation.Le (Number (pos 4)) (Var 0 sort.Int)) ∷ []); locals = ((name_p00, (Named name_v0)) ∷ (name_u1, (Of unary.Vi (Named name_b1))) ∷ (name_s2, (Named name_w2)) ∷ (name_s, (Of unary.Vi (Number (pos 1)))) ∷ (name_t, (Of unary.Vi (Number (pos 1)))) ∷ (name_i, (Of unary.Vi (Var 0 sort.Int))) ∷ []); items = ((Data (Number (pos 64)) (Named name_v0) (Of2 binary.Cons (Of unary.Vi (Named name_o0)) Nil)) ∷ (Data (Number (pos 64)) (Named name_w2) (Of2 binary.Cons (Of unary.Vi (Named name_h2)) (Of2 binary.Cons (Named name_q2) (Of2 binary.Cons (Of unary.Vi (Number (pos 3))) Nil)))) ∷ []) }) (name_k2 ∷ []) ([]) (name_k1 ∷ [])) (s.WithBlock (s.Then 7 (s.Meet ((Number (pos 0)) ∷ []) ([])) s.NoBlock s.End) (s.WithBlock (s.Then 8 (s.If ([]) ((record { lines = ((line.Comb (((pos 1), 7) ∷ ((pos 1), 9) ∷ [])) ∷ []) }) ∷ (record { lines = ((line.Comb (((pos 1), 8) ∷ ((pos 1), 9) ∷ [])) ∷ []) }) ∷ []) ([]) ([])) (s.WithBlock (s.Then 9 s.Skip s.NoBlock (s.Then 10 (s.Set ([]) ((record { lines = ((line.Comb (((pos 1), 7) ∷ ((pos 1), 10) ∷ [])) ∷ []) }) ∷ (record { lines = ((line.Comb (((pos 1), 8) ∷ ((pos 1), 10) ∷ [])) ∷ []) }) ∷ (record { lines = ((line.Comb (((pos 1), 7) ∷ ((pos 1), 10) ∷ [])) ∷ []) }) ∷ (record { lines = ((line.Comb (((pos 1), 8) ∷ ((pos 1), 10) ∷ [])) ∷ []) }) ∷ [])) s.NoBlock (s.Then 11 (s.Continue ((Of2 binary.Add (Named name_k1) (Number (pos 1))) ∷ []) ((record { lines = ((line.Comb (((pos 1), 7) ∷ ((pos 1), 10) ∷ [])) ∷ []) }) ∷ [])) s.NoBlock s.End))) (s.WithBlock (s.Then 12 (s.Break ((Named name_k1) ∷ []) ([])) s.NoBlock s.End) s.NoBlock)) s.End) s.NoBlock)) (s.Then 13 (s.Set ([]) ([])) s.NoBlock (s.Then 14 (s.Law name_sub_one ((Of2 binary.Cons (Of unary.Vi (Named name_o0)) Nil) ∷ (Number (pos 0)) ∷ []) ([])) s.NoBlock (s.Then 15 (s.Return ((Of2 binary.Cons (Of unary.Vi (Named name_o0)) Nil) ∷ (Of2 binary.Cons (Of unary.Vi (Named name_h2)) (Of2 binary.Cons (Named name_q2) (Of2 binary.Cons (Of unary.Vi (Number (pos 3))) Nil))) ∷ []) ([]) ([])) s.NoBlock s.End)))))))) (s.WithBlock (s.Then 16 (s.Apart 1 0 ([])) s.NoBlock (s.Then 17 (s.Set ([]) ([])) s.NoBlock (s.Then 18 (s.Set ([]) ([])) s.NoBlock (s.Then 19 (s.While (record { opened = (sort.Int ∷ []); facts = ((Rel relation.Le (Number (pos 0)) (Var 0 sort.Int)) ∷ (Rel relation.Le (Var 0 sort.Int) (Number (pos 4))) ∷ []); locals = ((name_p00, (Named name_v0)) ∷ (name_u1, (Of unary.Vi (Named name_b1))) ∷ (name_s2, (Named name_w2)) ∷ (name_s, (Of unary.Vi (Number (pos 1)))) ∷ (name_t, (Of unary.Vi (Number (pos 1)))) ∷ (name_i, (Of unary.Vi (Var 0 sort.Int))) ∷ []); items = ((Data (Number (pos 64)) (Named name_v0) (Of2 binary.Cons (Of unary.Vi (Named name_o0)) Nil)) ∷ (Data (Number (pos 64)) (Named name_w2) (Of2 binary.Cons (Of unary.Vi (Named name_h2)) (Of2 binary.Cons (Named name_q2) (Of2 binary.Cons (Of unary.Vi (Number (pos 3))) Nil)))) ∷ []) }) (record { opened = (sort.Int ∷ []); facts = ((Rel relation.Le (Number (pos 0)) (Var 0 sort.Int)) ∷ (Rel relation.Le (Var 0 sort.Int) (Number (pos 4))) ∷ (Rel relation.Le (Number (pos 4)) (Var 0 sort.Int)) ∷ []); locals = ((name_p00, (Named name_v0)) ∷ (name_u1, (Of unary.Vi (Named name_b1))) ∷ (name_s2, (Named name_w2)) ∷ (name_s, (Of unary.Vi (Number (pos 1)))) ∷ (name_t, (Of unary.Vi (Number (pos 1)))) ∷ (name_i, (Of unary.Vi (Var 0 sort.Int))) ∷ []); items = ((Data (Number (pos 64)) (Named name_v0) (Of2 binary.Cons (Of unary.Vi (Named name_o0)) Nil)) ∷ (Data (Number (pos 64)) (Named name_w2) (Of2 binary.Cons (Of unary.Vi (Named name_h2)) (Of2 binary.Cons (Named name_q2) (Of2 binary.Cons (Of unary.Vi (Number (pos 3))) Nil)))) ∷ []) }) (name_k4 ∷ []) ([]) (name_k3 ∷ [])) (s.WithBlock (s.Then 20 (s.Meet ((Number (pos 0)) ∷ []) ([])) s.NoBlock s.End) (s.WithBlock (s.Then 21 (s.If ([]) ((record { lines = ((line.Comb (((pos 1), 7) ∷ ((pos 1), 9) ∷ [])) ∷ []) }) ∷ (record { lines = ((line.Comb (((pos 1), 8) ∷ ((pos 1), 9) ∷ [])) ∷ []) }) ∷ []) ([]) ([])) (s.WithBlock (s.Then 22 (s.Bounds 0 None ([])) s.NoBlock (s.Then 23 s.Skip s.NoBlock (s.Then 24 (s.Set ([]) ((record { lines = ((line.Comb (((pos 1), 7) ∷ ((pos 1), 12) ∷ [])) ∷ []) }) ∷ (record { lines = ((line.Comb (((pos 1), 8) ∷ ((pos 1), 12) ∷ [])) ∷ []) }) ∷ (record { lines = ((line.Comb (((pos 1), 7) ∷ ((pos 1), 12) ∷ [])) ∷ []) }) ∷ (record { lines = ((line.Comb (((pos 1), 8) ∷ ((pos 1), 12) ∷ [])) ∷ []) }) ∷ [])) s.NoBlock (s.Then 25 (s.Continue ((Of2 binary.Add (Named name_k3) (Number (pos 1))) ∷ []) ((record { lines = ((line.Comb (((pos 1), 7) ∷ ((pos 1), 12) ∷ [])) ∷ []) }) ∷ [])) s.NoBlock s.End)))) (s.WithBlock (s.Then 26 (s.Break ((Named name_k3) ∷ []) ([])) s.NoBlock s.End) s.NoBlock)) s.End) s.NoBlock)) (s.Then 27 (s.Set ([]) ([])) s.NoBlock (s.Then 28 (s.Return ((Of2 binary.Cons (Of unary.Vi (Named name_o0)) Nil) ∷ (Of2 binary.Cons (Of unary.Vi (Named name_h2)) (Of2 binary.Cons (Named name_q2) (Of2 binary.Cons (Of unary.Vi (Number (pos 3))) Nil))) ∷ []) ([]) ([])) s.NoBlock s.End)))))) s.NoBlock)) s.End) ≡ (RefusedAt 19 6 1)
unfolding computing
random_979 = refl

random_980 : body_verdict (record { predicates = ([]); specs = ((record { is_void = false; name = name_f; params = (name_p00 ∷ name_u1 ∷ name_s2 ∷ []); vars = ((name_v0, sort.Val) ∷ (name_o0, sort.Int) ∷ (name_b1, sort.Int) ∷ (name_w2, sort.Val) ∷ (name_h2, sort.Int) ∷ (name_q2, sort.Val) ∷ []); pre = (record { opened = []; facts = ((Rel relation.Le (Number (pos 0)) (Var 1 sort.Int)) ∷ (Rel relation.Le (Var 1 sort.Int) (Number (pos 20))) ∷ (Rel relation.Le (Number (pos 0)) (Var 2 sort.Int)) ∷ (Rel relation.Le (Var 2 sort.Int) (Number (pos 31))) ∷ (Rel relation.Le (Number (pos 0)) (Var 4 sort.Int)) ∷ (Rel relation.Le (Var 4 sort.Int) (Number (pos 20))) ∷ []); locals = ((name_p00, (Var 0 sort.Val)) ∷ (name_u1, (Of unary.Vi (Var 2 sort.Int))) ∷ (name_s2, (Var 3 sort.Val)) ∷ []); items = ((Data (Number (pos 64)) (Var 0 sort.Val) (Of2 binary.Cons (Of unary.Vi (Var 1 sort.Int)) Nil)) ∷ (Data (Number (pos 64)) (Var 3 sort.Val) (Of2 binary.Cons (Of unary.Vi (Var 4 sort.Int)) (Of2 binary.Cons (Var 5 sort.Val) (Of2 binary.Cons (Of unary.Vi (Number (pos 3))) Nil)))) ∷ []) }); post = (record { opened = (sort.List ∷ sort.List ∷ []); facts = ([]); locals = []; items = ((Data (Number (pos 64)) (Var 0 sort.Val) (Var 7 sort.List)) ∷ (Data (Number (pos 64)) (Var 3 sort.Val) (Var 8 sort.List)) ∷ []) }) }) ∷ (record { is_void = false; name = name_main; params = ([]); vars = []; pre = (record { opened = []; facts = ([]); locals = []; items = ([]) }); post = (record { opened = []; facts = ((Rel relation.Eq (Var 0 sort.Val) (Of unary.Vi (Number (pos 0)))) ∷ []); locals = []; items = ([]) }) }) ∷ []) }) (record { is_void = false; name = name_f; params = (name_p00 ∷ name_u1 ∷ name_s2 ∷ []); vars = ((name_v0, sort.Val) ∷ (name_o0, sort.Int) ∷ (name_b1, sort.Int) ∷ (name_w2, sort.Val) ∷ (name_h2, sort.Int) ∷ (name_q2, sort.Val) ∷ []); pre = (record { opened = []; facts = ((Rel relation.Le (Number (pos 0)) (Var 1 sort.Int)) ∷ (Rel relation.Le (Var 1 sort.Int) (Number (pos 20))) ∷ (Rel relation.Le (Number (pos 0)) (Var 2 sort.Int)) ∷ (Rel relation.Le (Var 2 sort.Int) (Number (pos 31))) ∷ (Rel relation.Le (Number (pos 0)) (Var 4 sort.Int)) ∷ (Rel relation.Le (Var 4 sort.Int) (Number (pos 20))) ∷ []); locals = ((name_p00, (Var 0 sort.Val)) ∷ (name_u1, (Of unary.Vi (Var 2 sort.Int))) ∷ (name_s2, (Var 3 sort.Val)) ∷ []); items = ((Data (Number (pos 64)) (Var 0 sort.Val) (Of2 binary.Cons (Of unary.Vi (Var 1 sort.Int)) Nil)) ∷ (Data (Number (pos 64)) (Var 3 sort.Val) (Of2 binary.Cons (Of unary.Vi (Var 4 sort.Int)) (Of2 binary.Cons (Var 5 sort.Val) (Of2 binary.Cons (Of unary.Vi (Number (pos 3))) Nil)))) ∷ []) }); post = (record { opened = (sort.List ∷ sort.List ∷ []); facts = ([]); locals = []; items = ((Data (Number (pos 64)) (Var 0 sort.Val) (Var 7 sort.List)) ∷ (Data (Number (pos 64)) (Var 3 sort.Val) (Var 8 sort.List)) ∷ []) }) }) (record { temps = (name_p00 ∷ name_u1 ∷ name_s2 ∷ name_s ∷ name_t ∷ name_i ∷ name_x1 ∷ name_d0 ∷ name_p1 ∷ name_q1 ∷ []); body = (c.Then (c.Set 3 (c.Const 1)) (c.Then (c.Set 4 (c.Const 1)) (c.Then (c.Set 5 (c.Const 0)) (c.Then (c.Loop (c.Then (c.If (c.Nonzero kind.Signed (c.Binary two.Lt kind.Signed (c.Temp 5) (c.Const 4))) (c.Then c.Skip (c.Then (c.Set 5 (c.Binary two.Add kind.Signed (c.Temp 5) (c.Const 1))) (c.Then c.Continue c.End))) (c.Then c.Break c.End)) c.End)) (c.Then (c.Set 7 (c.Binary two.Add kind.Signed (c.Const 1) (c.Const 2))) (c.Then (c.Return (Some (c.Temp 3))) c.End)))))) }) (s.Then 1 (s.Split (Rel relation.Le (Named name_o0) (Number (pos 2))) ([]) ([])) (s.WithBlock (s.Then 2 (s.Set ([]) ([])) s.NoBlock (s.Then 3 (s.Apart 1 0 ([])) s.NoBlock (s.Then 4 (s.Set ([]) ([])) s.NoBlock (s.Then 5 (s.Set ([]) ([])) s.NoBlock (s.Then 6 (s.While (record { opened = (sort.Int ∷ []); facts = ((Rel relation.Le (Number (pos 0)) (Var 0 sort.Int)) ∷ (Rel relation.Le (Var 0 sort.Int) (Number (pos 4))) ∷ []); locals = ((name_p00, (Named name_v0)) ∷ (name_u1, (Of unary.Vi (Named name_b1))) ∷ (name_s2, (Named name_w2)) ∷ (name_s, (Of unary.Vi (Number (pos 1)))) ∷ (name_t, (Of unary.Vi (Number (pos 1)))) ∷ (name_i, (Of unary.Vi (Var 0 sort.Int))) ∷ []); items = ((Data (Number (pos 64)) (Named name_v0) (Of2 binary.Cons (Of unary.Vi (Named name_o0)) Nil)) ∷ (Data (Number (pos 64)) (Named name_w2) (Of2 binary.Cons (Of unary.Vi (Named name_h2)) (Of2 binary.Cons (Named name_q2) (Of2 binary.Cons (Of unary.Vi (Number (pos 3))) Nil)))) ∷ []) }) (record { opened = (sort.Int ∷ []); facts = ((Rel relation.Le (Number (pos 0)) (Var 0 sort.Int)) ∷ (Rel relation.Le (Var 0 sort.Int) (Number (pos 4))) ∷ (Rel relation.Le (Number (pos 4)) (Var 0 sort.Int)) ∷ []); locals = ((name_p00, (Named name_v0)) ∷ (name_u1, (Of unary.Vi (Named name_b1))) ∷ (name_s2, (Named name_w2)) ∷ (name_s, (Of unary.Vi (Number (pos 1)))) ∷ (name_t, (Of unary.Vi (Number (pos 1)))) ∷ (name_i, (Of unary.Vi (Var 0 sort.Int))) ∷ []); items = ((Data (Number (pos 64)) (Named name_v0) (Of2 binary.Cons (Of unary.Vi (Named name_o0)) Nil)) ∷ (Data (Number (pos 64)) (Named name_w2) (Of2 binary.Cons (Of unary.Vi (Named name_h2)) (Of2 binary.Cons (Named name_q2) (Of2 binary.Cons (Of unary.Vi (Number (pos 3))) Nil)))) ∷ []) }) (name_k2 ∷ []) ([]) (name_k1 ∷ [])) (s.WithBlock (s.Then 7 (s.Meet ((Number (pos 0)) ∷ []) ([])) s.NoBlock s.End) (s.WithBlock (s.Then 8 (s.If ([]) ((record { lines = ((line.Comb (((pos 1), 7) ∷ ((pos 1), 9) ∷ [])) ∷ []) }) ∷ (record { lines = ((line.Comb (((pos 1), 8) ∷ ((pos 1), 9) ∷ [])) ∷ []) }) ∷ []) ([]) ([])) (s.WithBlock (s.Then 9 s.Skip s.NoBlock (s.Then 10 (s.Set ([]) ((record { lines = ((line.Comb (((pos 1), 7) ∷ ((pos 1), 10) ∷ [])) ∷ []) }) ∷ (record { lines = ((line.Comb (((pos 1), 8) ∷ ((pos 1), 10) ∷ [])) ∷ []) }) ∷ (record { lines = ((line.Comb (((pos 1), 7) ∷ ((pos 1), 10) ∷ [])) ∷ []) }) ∷ (record { lines = ((line.Comb (((pos 1), 8) ∷ ((pos 1), 10) ∷ [])) ∷ []) }) ∷ [])) s.NoBlock (s.Then 11 (s.Continue ((Of2 binary.Add (Named name_k1) (Number (pos 1))) ∷ []) ((record { lines = ((line.Comb (((pos 1), 7) ∷ ((pos 1), 10) ∷ [])) ∷ []) }) ∷ [])) s.NoBlock s.End))) (s.WithBlock (s.Then 12 (s.Break ((Named name_k1) ∷ []) ([])) s.NoBlock s.End) s.NoBlock)) s.End) s.NoBlock)) (s.Then 13 (s.Set ([]) ([])) s.NoBlock (s.Then 14 (s.Law name_sub_one ((Of2 binary.Cons (Of unary.Vi (Named name_o0)) Nil) ∷ (Number (pos 0)) ∷ []) ([])) s.NoBlock (s.Then 15 (s.Return ((Of2 binary.Cons (Of unary.Vi (Named name_o0)) Nil) ∷ (Of2 binary.Cons (Of unary.Vi (Named name_h2)) (Of2 binary.Cons (Named name_q2) (Of2 binary.Cons (Of unary.Vi (Number (pos 3))) Nil))) ∷ []) ([]) ([])) s.NoBlock s.End)))))))) (s.WithBlock (s.Then 16 (s.Set ([]) ([])) s.NoBlock (s.Then 17 (s.Apart 1 0 ([])) s.NoBlock (s.Then 18 (s.Set ([]) ([])) s.NoBlock (s.Then 19 (s.Set ([]) ([])) s.NoBlock (s.Then 20 (s.While (record { opened = (sort.Int ∷ []); facts = ((Rel relation.Le (Number (pos 0)) (Var 0 sort.Int)) ∷ (Rel relation.Le (Var 0 sort.Int) (Number (pos 4))) ∷ []); locals = ((name_p00, (Named name_v0)) ∷ (name_u1, (Of unary.Vi (Named name_b1))) ∷ (name_s2, (Named name_w2)) ∷ (name_s, (Of unary.Vi (Number (pos 1)))) ∷ (name_t, (Of unary.Vi (Number (pos 1)))) ∷ (name_i, (Of unary.Vi (Var 0 sort.Int))) ∷ []); items = ((Data (Number (pos 64)) (Named name_v0) (Of2 binary.Cons (Of unary.Vi (Named name_o0)) Nil)) ∷ (Data (Number (pos 64)) (Named name_w2) (Of2 binary.Cons (Of unary.Vi (Named name_h2)) (Of2 binary.Cons (Named name_q2) (Of2 binary.Cons (Of unary.Vi (Number (pos 3))) Nil)))) ∷ []) }) (record { opened = (sort.Int ∷ []); facts = ((Rel relation.Le (Number (pos 0)) (Var 0 sort.Int)) ∷ (Rel relation.Le (Var 0 sort.Int) (Number (pos 4))) ∷ (Rel relation.Le (Number (pos 4)) (Var 0 sort.Int)) ∷ []); locals = ((name_p00, (Named name_v0)) ∷ (name_u1, (Of unary.Vi (Named name_b1))) ∷ (name_s2, (Named name_w2)) ∷ (name_s, (Of unary.Vi (Number (pos 1)))) ∷ (name_t, (Of unary.Vi (Number (pos 1)))) ∷ (name_i, (Of unary.Vi (Var 0 sort.Int))) ∷ []); items = ((Data (Number (pos 64)) (Named name_v0) (Of2 binary.Cons (Of unary.Vi (Named name_o0)) Nil)) ∷ (Data (Number (pos 64)) (Named name_w2) (Of2 binary.Cons (Of unary.Vi (Named name_h2)) (Of2 binary.Cons (Named name_q2) (Of2 binary.Cons (Of unary.Vi (Number (pos 3))) Nil)))) ∷ []) }) (name_k4 ∷ []) ([]) (name_k3 ∷ [])) (s.WithBlock (s.Then 21 (s.Meet ((Number (pos 0)) ∷ []) ([])) s.NoBlock s.End) (s.WithBlock (s.Then 22 (s.If ([]) ((record { lines = ((line.Comb (((pos 1), 7) ∷ ((pos 1), 9) ∷ [])) ∷ []) }) ∷ (record { lines = ((line.Comb (((pos 1), 8) ∷ ((pos 1), 9) ∷ [])) ∷ []) }) ∷ []) ([]) ([])) (s.WithBlock (s.Then 23 (s.Bounds 0 None ([])) s.NoBlock (s.Then 24 s.Skip s.NoBlock (s.Then 25 (s.Set ([]) ((record { lines = ((line.Comb (((pos 1), 7) ∷ ((pos 1), 12) ∷ [])) ∷ []) }) ∷ (record { lines = ((line.Comb (((pos 1), 64) ∷ ((pos 1), 12) ∷ [])) ∷ []) }) ∷ (record { lines = ((line.Comb (((pos 1), 7) ∷ ((pos 1), 12) ∷ [])) ∷ []) }) ∷ (record { lines = ((line.Comb (((pos 1), 8) ∷ ((pos 1), 12) ∷ [])) ∷ []) }) ∷ [])) s.NoBlock (s.Then 26 (s.Continue ((Of2 binary.Add (Named name_k3) (Number (pos 1))) ∷ []) ((record { lines = ((line.Comb (((pos 1), 7) ∷ ((pos 1), 12) ∷ [])) ∷ []) }) ∷ [])) s.NoBlock s.End)))) (s.WithBlock (s.Then 27 (s.Break ((Named name_k3) ∷ []) ([])) s.NoBlock s.End) s.NoBlock)) s.End) s.NoBlock)) (s.Then 28 (s.Set ([]) ([])) s.NoBlock (s.Then 29 (s.Return ((Of2 binary.Cons (Of unary.Vi (Named name_o0)) Nil) ∷ (Of2 binary.Cons (Of unary.Vi (Named name_h2)) (Of2 binary.Cons (Named name_q2) (Of2 binary.Cons (Of unary.Vi (Number (pos 3))) Nil))) ∷ []) ([]) ([])) s.NoBlock s.End))))))) s.NoBlock)) s.End) ≡ (RefusedAt 25 2 3)
unfolding computing
random_980 = refl

random_981 : body_verdict (record { predicates = ([]); specs = ((record { is_void = false; name = name_f; params = (name_p00 ∷ name_u1 ∷ name_s2 ∷ []); vars = ((name_v0, sort.Val) ∷ (name_o0, sort.Int) ∷ (name_b1, sort.Int) ∷ (name_w2, sort.Val) ∷ (name_h2, sort.Int) ∷ (name_q2, sort.Val) ∷ []); pre = (record { opened = []; facts = ((Rel relation.Le (Number (pos 0)) (Var 1 sort.Int)) ∷ (Rel relation.Le (Var 1 sort.Int) (Number (pos 20))) ∷ (Rel relation.Le (Number (pos 0)) (Var 2 sort.Int)) ∷ (Rel relation.Le (Var 2 sort.Int) (Number (pos 31))) ∷ (Rel relation.Le (Number (pos 0)) (Var 4 sort.Int)) ∷ (Rel relation.Le (Var 4 sort.Int) (Number (pos 20))) ∷ []); locals = ((name_p00, (Var 0 sort.Val)) ∷ (name_u1, (Of unary.Vi (Var 2 sort.Int))) ∷ (name_s2, (Var 3 sort.Val)) ∷ []); items = ((Data (Number (pos 64)) (Var 0 sort.Val) (Of2 binary.Cons (Of unary.Vi (Var 1 sort.Int)) Nil)) ∷ (Data (Number (pos 64)) (Var 3 sort.Val) (Of2 binary.Cons (Of unary.Vi (Var 4 sort.Int)) (Of2 binary.Cons (Var 5 sort.Val) (Of2 binary.Cons (Of unary.Vi (Number (pos 3))) Nil)))) ∷ []) }); post = (record { opened = (sort.List ∷ sort.List ∷ []); facts = ([]); locals = []; items = ((Data (Number (pos 64)) (Var 0 sort.Val) (Var 7 sort.List)) ∷ (Data (Number (pos 64)) (Var 3 sort.Val) (Var 8 sort.List)) ∷ []) }) }) ∷ (record { is_void = false; name = name_main; params = ([]); vars = []; pre = (record { opened = []; facts = ([]); locals = []; items = ([]) }); post = (record { opened = []; facts = ((Rel relation.Eq (Var 0 sort.Val) (Of unary.Vi (Number (pos 0)))) ∷ []); locals = []; items = ([]) }) }) ∷ []) }) (record { is_void = false; name = name_f; params = (name_p00 ∷ name_u1 ∷ name_s2 ∷ []); vars = ((name_v0, sort.Val) ∷ (name_o0, sort.Int) ∷ (name_b1, sort.Int) ∷ (name_w2, sort.Val) ∷ (name_h2, sort.Int) ∷ (name_q2, sort.Val) ∷ []); pre = (record { opened = []; facts = ((Rel relation.Le (Number (pos 0)) (Var 1 sort.Int)) ∷ (Rel relation.Le (Var 1 sort.Int) (Number (pos 20))) ∷ (Rel relation.Le (Number (pos 0)) (Var 2 sort.Int)) ∷ (Rel relation.Le (Var 2 sort.Int) (Number (pos 31))) ∷ (Rel relation.Le (Number (pos 0)) (Var 4 sort.Int)) ∷ (Rel relation.Le (Var 4 sort.Int) (Number (pos 20))) ∷ []); locals = ((name_p00, (Var 0 sort.Val)) ∷ (name_u1, (Of unary.Vi (Var 2 sort.Int))) ∷ (name_s2, (Var 3 sort.Val)) ∷ []); items = ((Data (Number (pos 64)) (Var 0 sort.Val) (Of2 binary.Cons (Of unary.Vi (Var 1 sort.Int)) Nil)) ∷ (Data (Number (pos 64)) (Var 3 sort.Val) (Of2 binary.Cons (Of unary.Vi (Var 4 sort.Int)) (Of2 binary.Cons (Var 5 sort.Val) (Of2 binary.Cons (Of unary.Vi (Number (pos 3))) Nil)))) ∷ []) }); post = (record { opened = (sort.List ∷ sort.List ∷ []); facts = ([]); locals = []; items = ((Data (Number (pos 64)) (Var 0 sort.Val) (Var 7 sort.List)) ∷ (Data (Number (pos 64)) (Var 3 sort.Val) (Var 8 sort.List)) ∷ []) }) }) (record { temps = (name_p00 ∷ name_u1 ∷ name_s2 ∷ name_s ∷ name_t ∷ name_i ∷ name_x1 ∷ name_d0 ∷ name_p1 ∷ name_q1 ∷ []); body = (c.Then (c.Set 3 (c.Const 1)) (c.Then (c.Set 4 (c.Const 1)) (c.Then (c.Set 5 (c.Const 0)) (c.Then (c.Loop (c.Then (c.If (c.Nonzero kind.Signed (c.Binary two.Lt kind.Signed (c.Temp 5) (c.Const 4))) (c.Then c.Skip (c.Then (c.Set 5 (c.Binary two.Add kind.Signed (c.Temp 5) (c.Const 1))) (c.Then c.Continue c.End))) (c.Then c.Break c.End)) c.End)) (c.Then (c.Set 7 (c.Binary two.Add kind.Signed (c.Const 1) (c.Const 2))) (c.Then (c.Return (Some (c.Temp 3))) c.End)))))) }) (s.Then 1 (s.Split (Rel relation.Le (Named name_o0) (Number (pos 2))) ([]) ([])) (s.WithBlock (s.Then 2 (s.Set ([]) ([])) s.NoBlock (s.Then 3 (s.Apart 1 0 ([])) s.NoBlock (s.Then 4 (s.Set ([]) ([])) s.NoBlock (s.Then 5 (s.Set ([]) ([])) s.NoBlock (s.Then 6 (s.While (record { opened = (sort.Int ∷ []); facts = ((Rel relation.Le (Number (pos 0)) (Var 0 sort.Int)) ∷ (Rel relation.Le (Var 0 sort.Int) (Number (pos 4))) ∷ []); locals = ((name_p00, (Named name_v0)) ∷ (name_u1, (Of unary.Vi (Named name_b1))) ∷ (name_s2, (Named name_w2)) ∷ (name_s, (Of unary.Vi (Number (pos 1)))) ∷ (name_t, (Of unary.Vi (Number (pos 1)))) ∷ (name_i, (Of unary.Vi (Var 0 sort.Int))) ∷ []); items = ((Data (Number (pos 64)) (Named name_v0) (Of2 binary.Cons (Of unary.Vi (Named name_o0)) Nil)) ∷ (Data (Number (pos 64)) (Named name_w2) (Of2 binary.Cons (Of unary.Vi (Named name_h2)) (Of2 binary.Cons (Named name_q2) (Of2 binary.Cons (Of unary.Vi (Number (pos 3))) Nil)))) ∷ []) }) (record { opened = (sort.Int ∷ []); facts = ((Rel relation.Le (Number (pos 0)) (Var 0 sort.Int)) ∷ (Rel relation.Le (Var 0 sort.Int) (Number (pos 4))) ∷ (Rel relation.Le (Number (pos 4)) (Var 0 sort.Int)) ∷ []); locals = ((name_p00, (Named name_v0)) ∷ (name_u1, (Of unary.Vi (Named name_b1))) ∷ (name_s2, (Named name_w2)) ∷ (name_s, (Of unary.Vi (Number (pos 1)))) ∷ (name_t, (Of unary.Vi (Number (pos 1)))) ∷ (name_i, (Of unary.Vi (Var 0 sort.Int))) ∷ []); items = ((Data (Number (pos 64)) (Named name_v0) (Of2 binary.Cons (Of unary.Vi (Named name_o0)) Nil)) ∷ (Data (Number (pos 64)) (Named name_w2) (Of2 binary.Cons (Of unary.Vi (Named name_h2)) (Of2 binary.Cons (Named name_q2) (Of2 binary.Cons (Of unary.Vi (Number (pos 3))) Nil)))) ∷ []) }) (name_k2 ∷ []) ([]) (name_k1 ∷ [])) (s.WithBlock (s.Then 7 (s.Meet ((Number (pos 0)) ∷ []) ([])) s.NoBlock s.End) (s.WithBlock (s.Then 8 (s.If ([]) ((record { lines = ((line.Comb (((pos 1), 7) ∷ ((pos 1), 9) ∷ [])) ∷ []) }) ∷ (record { lines = ((line.Comb (((pos 1), 8) ∷ ((pos 1), 9) ∷ [])) ∷ []) }) ∷ []) ([]) ([])) (s.WithBlock (s.Then 9 s.Skip s.NoBlock (s.Then 10 (s.Set ([]) ((record { lines = ((line.Comb (((pos 1), 7) ∷ ((pos 1), 10) ∷ [])) ∷ []) }) ∷ (record { lines = ((line.Comb (((pos 1), 8) ∷ ((pos 1), 10) ∷ [])) ∷ []) }) ∷ (record { lines = ((line.Comb (((pos 1), 7) ∷ ((pos 1), 10) ∷ [])) ∷ []) }) ∷ (record { lines = ((line.Comb (((pos 1), 8) ∷ ((pos 1), 10) ∷ [])) ∷ []) }) ∷ [])) s.NoBlock (s.Then 11 (s.Continue ((Of2 binary.Add (Named name_k1) (Number (pos 1))) ∷ []) ((record { lines = ((line.Comb (((pos 1), 7) ∷ ((pos 1), 10) ∷ [])) ∷ []) }) ∷ [])) s.NoBlock s.End))) (s.WithBlock (s.Then 12 (s.Break ((Named name_k1) ∷ []) ([])) s.NoBlock s.End) s.NoBlock)) s.End) s.NoBlock)) (s.Then 13 (s.Set ([]) ([])) s.NoBlock (s.Then 14 (s.Law name_sub_one ((Of2 binary.Cons (Of unary.Vi (Named name_o0)) Nil) ∷ (Number (pos 0)) ∷ []) ([])) s.NoBlock (s.Then 15 (s.Return ((Of2 binary.Cons (Of unary.Vi (Named name_o0)) Nil) ∷ (Of2 binary.Cons (Of unary.Vi (Named name_h2)) (Of2 binary.Cons (Named name_q2) (Of2 binary.Cons (Of unary.Vi (Number (pos 3))) Nil))) ∷ []) ([]) ([])) s.NoBlock s.End)))))))) (s.WithBlock (s.Then 16 (s.Set ([]) ([])) s.NoBlock (s.Then 17 (s.Apart 1 0 ([])) s.NoBlock (s.Then 18 (s.Set ([]) ([])) s.NoBlock (s.Then 19 (s.Set ([]) ([])) s.NoBlock (s.Then 20 (s.While (record { opened = (sort.Int ∷ []); facts = ((Rel relation.Le (Number (pos 0)) (Var 0 sort.Int)) ∷ (Rel relation.Le (Var 0 sort.Int) (Number (pos 4))) ∷ []); locals = ((name_p00, (Named name_v0)) ∷ (name_u1, (Of unary.Vi (Named name_b1))) ∷ (name_s2, (Named name_w2)) ∷ (name_s, (Of unary.Vi (Number (pos 1)))) ∷ (name_t, (Of unary.Vi (Number (pos 1)))) ∷ (name_i, (Of unary.Vi (Var 0 sort.Int))) ∷ []); items = ((Data (Number (pos 64)) (Named name_v0) (Of2 binary.Cons (Of unary.Vi (Named name_o0)) Nil)) ∷ (Data (Number (pos 64)) (Named name_w2) (Of2 binary.Cons (Of unary.Vi (Named name_h2)) (Of2 binary.Cons (Named name_q2) (Of2 binary.Cons (Of unary.Vi (Number (pos 3))) Nil)))) ∷ []) }) (record { opened = (sort.Int ∷ []); facts = ((Rel relation.Le (Number (pos 0)) (Var 0 sort.Int)) ∷ (Rel relation.Le (Var 0 sort.Int) (Number (pos 4))) ∷ (Rel relation.Le (Number (pos 4)) (Var 0 sort.Int)) ∷ []); locals = ((name_p00, (Named name_v0)) ∷ (name_u1, (Of unary.Vi (Named name_b1))) ∷ (name_s2, (Named name_w2)) ∷ (name_s, (Of unary.Vi (Number (pos 1)))) ∷ (name_t, (Of unary.Vi (Number (pos 1)))) ∷ (name_i, (Of unary.Vi (Var 0 sort.Int))) ∷ []); items = ((Data (Number (pos 64)) (Named name_v0) (Of2 binary.Cons (Of unary.Vi (Named name_o0)) Nil)) ∷ (Data (Number (pos 64)) (Named name_w2) (Of2 binary.Cons (Of unary.Vi (Named name_h2)) (Of2 binary.Cons (Named name_q2) (Of2 binary.Cons (Of unary.Vi (Number (pos 3))) Nil)))) ∷ []) }) (name_k4 ∷ []) ([]) (name_k3 ∷ [])) (s.WithBlock s.End (s.WithBlock (s.Then 21 (s.If ([]) ((record { lines = ((line.Comb (((pos 1), 7) ∷ ((pos 1), 9) ∷ [])) ∷ []) }) ∷ (record { lines = ((line.Comb (((pos 1), 8) ∷ ((pos 1), 9) ∷ [])) ∷ []) }) ∷ []) ([]) ([])) (s.WithBlock (s.Then 22 (s.Bounds 0 None ([])) s.NoBlock (s.Then 23 s.Skip s.NoBlock (s.Then 24 (s.Set ([]) ((record { lines = ((line.Comb (((pos 1), 7) ∷ ((pos 1), 12) ∷ [])) ∷ []) }) ∷ (record { lines = ((line.Comb (((pos 1), 8) ∷ ((pos 1), 12) ∷ [])) ∷ []) }) ∷ (record { lines = ((line.Comb (((pos 1), 7) ∷ ((pos 1), 12) ∷ [])) ∷ []) }) ∷ (record { lines = ((line.Comb (((pos 1), 8) ∷ ((pos 1), 12) ∷ [])) ∷ []) }) ∷ [])) s.NoBlock (s.Then 25 (s.Continue ((Of2 binary.Add (Named name_k3) (Number (pos 1))) ∷ []) ((record { lines = ((line.Comb (((pos 1), 7) ∷ ((pos 1), 12) ∷ [])) ∷ []) }) ∷ [])) s.NoBlock s.End)))) (s.WithBlock (s.Then 26 (s.Break ((Named name_k3) ∷ []) ([])) s.NoBlock s.End) s.NoBlock)) s.End) s.NoBlock)) (s.Then 27 (s.Set ([]) ([])) s.NoBlock (s.Then 28 (s.Return ((Of2 binary.Cons (Of unary.Vi (Named name_o0)) Nil) ∷ (Of2 binary.Cons (Of unary.Vi (Named name_h2)) (Of2 binary.Cons (Named name_q2) (Of2 binary.Cons (Of unary.Vi (Number (pos 3))) Nil))) ∷ []) ([]) ([])) s.NoBlock s.End))))))) s.NoBlock)) s.End) ≡ (RefusedAt 21 0 10)
unfolding computing
random_981 = refl

random_982 : body_verdict (record { predicates = ([]); specs = ((record { is_void = false; name = name_f; params = (name_p00 ∷ name_u1 ∷ name_s2 ∷ []); vars = ((name_v0, sort.Val) ∷ (name_o0, sort.Int) ∷ (name_b1, sort.Int) ∷ (name_w2, sort.Val) ∷ (name_h2, sort.Int) ∷ (name_q2, sort.Val) ∷ []); pre = (record { opened = []; facts = ((Rel relation.Le (Number (pos 0)) (Var 1 sort.Int)) ∷ (Rel relation.Le (Var 1 sort.Int) (Number (pos 20))) ∷ (Rel relation.Le (Number (pos 0)) (Var 2 sort.Int)) ∷ (Rel relation.Le (Var 2 sort.Int) (Number (pos 31))) ∷ (Rel relation.Le (Number (pos 0)) (Var 4 sort.Int)) ∷ (Rel relation.Le (Var 4 sort.Int) (Number (pos 20))) ∷ []); locals = ((name_p00, (Var 0 sort.Val)) ∷ (name_u1, (Of unary.Vi (Var 2 sort.Int))) ∷ (name_s2, (Var 3 sort.Val)) ∷ []); items = ((Data (Number (pos 64)) (Var 0 sort.Val) (Of2 binary.Cons (Of unary.Vi (Var 1 sort.Int)) Nil)) ∷ (Data (Number (pos 64)) (Var 3 sort.Val) (Of2 binary.Cons (Of unary.Vi (Var 4 sort.Int)) (Of2 binary.Cons (Var 5 sort.Val) (Of2 binary.Cons (Of unary.Vi (Number (pos 3))) Nil)))) ∷ []) }); post = (record { opened = (sort.List ∷ sort.List ∷ []); facts = ([]); locals = []; items = ((Data (Number (pos 64)) (Var 0 sort.Val) (Var 7 sort.List)) ∷ (Data (Number (pos 64)) (Var 3 sort.Val) (Var 8 sort.List)) ∷ []) }) }) ∷ (record { is_void = false; name = name_main; params = ([]); vars = []; pre = (record { opened = []; facts = ([]); locals = []; items = ([]) }); post = (record { opened = []; facts = ((Rel relation.Eq (Var 0 sort.Val) (Of unary.Vi (Number (pos 0)))) ∷ []); locals = []; items = ([]) }) }) ∷ []) }) (record { is_void = false; name = name_f; params = (name_p00 ∷ name_u1 ∷ name_s2 ∷ []); vars = ((name_v0, sort.Val) ∷ (name_o0, sort.Int) ∷ (name_b1, sort.Int) ∷ (name_w2, sort.Val) ∷ (name_h2, sort.Int) ∷ (name_q2, sort.Val) ∷ []); pre = (record { opened = []; facts = ((Rel relation.Le (Number (pos 0)) (Var 1 sort.Int)) ∷ (Rel relation.Le (Var 1 sort.Int) (Number (pos 20))) ∷ (Rel relation.Le (Number (pos 0)) (Var 2 sort.Int)) ∷ (Rel relation.Le (Var 2 sort.Int) (Number (pos 31))) ∷ (Rel relation.Le (Number (pos 0)) (Var 4 sort.Int)) ∷ (Rel relation.Le (Var 4 sort.Int) (Number (pos 20))) ∷ []); locals = ((name_p00, (Var 0 sort.Val)) ∷ (name_u1, (Of unary.Vi (Var 2 sort.Int))) ∷ (name_s2, (Var 3 sort.Val)) ∷ []); items = ((Data (Number (pos 64)) (Var 0 sort.Val) (Of2 binary.Cons (Of unary.Vi (Var 1 sort.Int)) Nil)) ∷ (Data (Number (pos 64)) (Var 3 sort.Val) (Of2 binary.Cons (Of unary.Vi (Var 4 sort.Int)) (Of2 binary.Cons (Var 5 sort.Val) (Of2 binary.Cons (Of unary.Vi (Number (pos 3))) Nil)))) ∷ []) }); post = (record { opened = (sort.List ∷ sort.List ∷ []); facts = ([]); locals = []; items = ((Data (Number (pos 64)) (Var 0 sort.Val) (Var 7 sort.List)) ∷ (Data (Number (pos 64)) (Var 3 sort.Val) (Var 8 sort.List)) ∷ []) }) }) (record { temps = (name_p00 ∷ name_u1 ∷ name_s2 ∷ name_s ∷ name_t ∷ name_i ∷ name_x1 ∷ name_d0 ∷ name_p1 ∷ name_q1 ∷ []); body = (c.Then (c.Set 3 (c.Const 1)) (c.Then (c.Set 4 (c.Const 1)) (c.Then (c.Set 5 (c.Const 0)) (c.Then (c.Loop (c.Then (c.If (c.Nonzero kind.Signed (c.Binary two.Lt kind.Signed (c.Temp 5) (c.Const 4))) (c.Then c.Skip (c.Then (c.Set 5 (c.Binary two.Add kind.Signed (c.Temp 5) (c.Const 1))) (c.Then c.Continue c.End))) (c.Then c.Break c.End)) c.End)) (c.Then (c.Set 7 (c.Binary two.Add kind.Signed (c.Const 1) (c.Const 2))) (c.Then (c.Return (Some (c.Temp 3))) c.End)))))) }) (s.Then 1 (s.Split (Rel relation.Le (Named name_o0) (Number (pos 2))) ([]) ([])) (s.WithBlock (s.Then 2 (s.Set ([]) ([])) s.NoBlock (s.Then 3 (s.Apart 1 0 ([])) s.NoBlock (s.Then 4 (s.Set ([]) ([])) s.NoBlock (s.Then 5 (s.Set ([]) ([])) s.NoBlock (s.Then 6 (s.While (record { opened = (sort.Int ∷ []); facts = ((Rel relation.Le (Number (pos 0)) (Var 0 sort.Int)) ∷ (Rel relation.Le (Var 0 sort.Int) (Number (pos 4))) ∷ []); locals = ((name_p00, (Named name_v0)) ∷ (name_u1, (Of unary.Vi (Named name_b1))) ∷ (name_s2, (Named name_w2)) ∷ (name_s, (Of unary.Vi (Number (pos 1)))) ∷ (name_t, (Of unary.Vi (Number (pos 1)))) ∷ (name_i, (Of unary.Vi (Var 0 sort.Int))) ∷ []); items = ((Data (Number (pos 64)) (Named name_v0) (Of2 binary.Cons (Of unary.Vi (Named name_o0)) Nil)) ∷ (Data (Number (pos 64)) (Named name_w2) (Of2 binary.Cons (Of unary.Vi (Named name_h2)) (Of2 binary.Cons (Named name_q2) (Of2 binary.Cons (Of unary.Vi (Number (pos 3))) Nil)))) ∷ []) }) (record { opened = (sort.Int ∷ []); facts = ((Rel relation.Le (Number (pos 0)) (Var 0 sort.Int)) ∷ (Rel relation.Le (Var 0 sort.Int) (Number (pos 4))) ∷ (Rel relation.Le (Number (pos 4)) (Var 0 sort.Int)) ∷ []); locals = ((name_p00, (Named name_v0)) ∷ (name_u1, (Of unary.Vi (Named name_b1))) ∷ (name_s2, (Named name_w2)) ∷ (name_s, (Of unary.Vi (Number (pos 1)))) ∷ (name_t, (Of unary.Vi (Number (pos 1)))) ∷ (name_i, (Of unary.Vi (Var 0 sort.Int))) ∷ []); items = ((Data (Number (pos 64)) (Named name_v0) (Of2 binary.Cons (Of unary.Vi (Named name_o0)) Nil)) ∷ (Data (Number (pos 64)) (Named name_w2) (Of2 binary.Cons (Of unary.Vi (Named name_h2)) (Of2 binary.Cons (Named name_q2) (Of2 binary.Cons (Of unary.Vi (Number (pos 3))) Nil)))) ∷ []) }) (name_k2 ∷ []) ([]) (name_k1 ∷ [])) (s.WithBlock (s.Then 7 (s.Meet ((Number (pos 0)) ∷ []) ([])) s.NoBlock s.End) (s.WithBlock (s.Then 8 (s.If ([]) ((record { lines = ((line.Comb (((pos 1), 7) ∷ ((pos 1), 9) ∷ [])) ∷ []) }) ∷ (record { lines = ((line.Comb (((pos 1), 8) ∷ ((pos 1), 9) ∷ [])) ∷ []) }) ∷ []) ([]) ([])) (s.WithBlock (s.Then 9 s.Skip s.NoBlock (s.Then 10 (s.Set ([]) ((record { lines = ((line.Comb (((pos 1), 7) ∷ ((pos 1), 10) ∷ [])) ∷ []) }) ∷ (record { lines = ((line.Comb (((pos 1), 8) ∷ ((pos 1), 10) ∷ [])) ∷ []) }) ∷ (record { lines = ((line.Comb (((pos 1), 7) ∷ ((pos 1), 10) ∷ [])) ∷ []) }) ∷ (record { lines = ((line.Comb (((pos 1), 8) ∷ ((pos 1), 10) ∷ [])) ∷ []) }) ∷ [])) s.NoBlock (s.Then 11 (s.Continue ((Of2 binary.Add (Named name_k1) (Number (pos 1))) ∷ []) ((record { lines = ((line.Comb (((pos 1), 7) ∷ ((pos 1), 10) ∷ [])) ∷ []) }) ∷ [])) s.NoBlock s.End))) (s.WithBlock (s.Then 12 (s.Break ((Named name_k1) ∷ []) ([])) s.NoBlock s.End) s.NoBlock)) s.End) s.NoBlock)) (s.Then 13 (s.Set ([]) ([])) s.NoBlock (s.Then 14 (s.Law name_sub_one ((Of2 binary.Cons (Of unary.Vi (Named name_o0)) Nil) ∷ (Number (pos 0)) ∷ []) ([])) s.NoBlock (s.Then 15 (s.Return ((Of2 binary.Cons (Of unary.Vi (Named name_o0)) Nil) ∷ (Of2 binary.Cons (Of unary.Vi (Named name_h2)) (Of2 binary.Cons (Named name_q2) (Of2 binary.Cons (Of unary.Vi (Number (pos 3))) Nil))) ∷ []) ([]) ([])) s.NoBlock s.End)))))))) (s.WithBlock (s.Then 16 (s.Set ([]) ([])) s.NoBlock (s.Then 17 (s.Apart 1 0 ([])) s.NoBlock (s.Then 18 (s.Set ([]) ([])) s.NoBlock (s.Then 19 (s.Set ([]) ([])) s.NoBlock (s.Then 20 (s.While (record { opened = (sort.Int ∷ []); facts = ((Rel relation.Le (Number (pos 0)) (Var 0 sort.Int)) ∷ (Rel relation.Le (Var 0 sort.Int) (Number (pos 4))) ∷ []); locals = ((name_p00, (Named name_v0)) ∷ (name_u1, (Of unary.Vi (Named name_b1))) ∷ (name_s2, (Named name_w2)) ∷ (name_s, (Of unary.Vi (Number (pos 1)))) ∷ (name_t, (Of unary.Vi (Number (pos 1)))) ∷ (name_i, (Of unary.Vi (Var 0 sort.Int))) ∷ []); items = ((Data (Number (pos 64)) (Named name_v0) (Of2 binary.Cons (Of unary.Vi (Named name_o0)) Nil)) ∷ (Data (Number (pos 64)) (Named name_w2) (Of2 binary.Cons (Of unary.Vi (Named name_h2)) (Of2 binary.Cons (Named name_q2) (Of2 binary.Cons (Of unary.Vi (Number (pos 3))) Nil)))) ∷ []) }) (record { opened = (sort.Int ∷ []); facts = ((Rel relation.Le (Number (pos 0)) (Var 0 sort.Int)) ∷ (Rel relation.Le (Named name_q2) (Number (pos 4))) ∷ (Rel relation.Le (Number (pos 4)) (Var 0 sort.Int)) ∷ []); locals = ((name_p00, (Named name_v0)) ∷ (name_u1, (Of unary.Vi (Named name_b1))) ∷ (name_s2, (Named name_w2)) ∷ (name_s, (Of unary.Vi (Number (pos 1)))) ∷ (name_t, (Of unary.Vi (Number (pos 1)))) ∷ (name_i, (Of unary.Vi (Var 0 sort.Int))) ∷ []); items = ((Data (Number (pos 64)) (Named name_v0) (Of2 binary.Cons (Of unary.Vi (Named name_o0)) Nil)) ∷ (Data (Number (pos 64)) (Named name_w2) (Of2 binary.Cons (Of unary.Vi (Named name_h2)) (Of2 binary.Cons (Named name_q2) (Of2 binary.Cons (Of unary.Vi (Number (pos 3))) Nil)))) ∷ []) }) (name_k4 ∷ []) ([]) (name_k3 ∷ [])) (s.WithBlock (s.Then 21 (s.Meet ((Number (pos 0)) ∷ []) ([])) s.NoBlock s.End) (s.WithBlock (s.Then 22 (s.If ([]) ((record { lines = ((line.Comb (((pos 1), 7) ∷ ((pos 1), 9) ∷ [])) ∷ []) }) ∷ (record { lines = ((line.Comb (((pos 1), 8) ∷ ((pos 1), 9) ∷ [])) ∷ []) }) ∷ []) ([]) ([])) (s.WithBlock (s.Then 23 (s.Bounds 0 None ([])) s.NoBlock (s.Then 24 s.Skip s.NoBlock (s.Then 25 (s.Set ([]) ((record { lines = ((line.Comb (((pos 1), 7) ∷ ((pos 1), 12) ∷ [])) ∷ []) }) ∷ (record { lines = ((line.Comb (((pos 1), 8) ∷ ((pos 1), 12) ∷ [])) ∷ []) }) ∷ (record { lines = ((line.Comb (((pos 1), 7) ∷ ((pos 1), 12) ∷ [])) ∷ []) }) ∷ (record { lines = ((line.Comb (((pos 1), 8) ∷ ((pos 1), 12) ∷ [])) ∷ []) }) ∷ [])) s.NoBlock (s.Then 26 (s.Continue ((Of2 binary.Add (Named name_k3) (Number (pos 1))) ∷ []) ((record { lines = ((line.Comb (((pos 1), 7) ∷ ((pos 1), 12) ∷ [])) ∷ []) }) ∷ [])) s.NoBlock s.End)))) (s.WithBlock (s.Then 27 (s.Break ((Named name_k3) ∷ []) ([])) s.NoBlock s.End) s.NoBlock)) s.End) s.NoBlock)) (s.Then 28 (s.Set ([]) ([])) s.NoBlock (s.Then 29 (s.Return ((Of2 binary.Cons (Of unary.Vi (Named name_o0)) Nil) ∷ (Of2 binary.Cons (Of unary.Vi (Named name_h2)) (Of2 binary.Cons (Named name_q2) (Of2 binary.Cons (Of unary.Vi (Number (pos 3))) Nil))) ∷ []) ([]) ([])) s.NoBlock s.End))))))) s.NoBlock)) s.End) ≡ (RefusedAt 20 6 1)
unfolding computing
random_982 = refl

random_983 : body_verdict (record { predicates = ([]); specs = ((record { is_void = false; name = name_f; params = (name_p00 ∷ name_u1 ∷ name_s2 ∷ []); vars = ((name_v0, sort.Val) ∷ (name_o0, sort.Int) ∷ (name_b1, sort.Int) ∷ (name_w2, sort.Val) ∷ (name_h2, sort.Int) ∷ (name_q2, sort.Val) ∷ []); pre = (record { opened = []; facts = ((Rel relation.Le (Number (pos 0)) (Var 1 sort.Int)) ∷ (Rel relation.Le (Var 1 sort.Int) (Number (pos 20))) ∷ (Rel relation.Le (Number (pos 0)) (Var 2 sort.Int)) ∷ (Rel relation.Le (Var 2 sort.Int) (Number (pos 31))) ∷ (Rel relation.Le (Number (pos 0)) (Var 4 sort.Int)) ∷ (Rel relation.Le (Var 4 sort.Int) (Number (pos 20))) ∷ []); locals = ((name_p00, (Var 0 sort.Val)) ∷ (name_u1, (Of unary.Vi (Var 2 sort.Int))) ∷ (name_s2, (Var 3 sort.Val)) ∷ []); items = ((Data (Number (pos 65)) (Var 0 sort.Val) (Of2 binary.Cons (Of unary.Vi (Var 1 sort.Int)) Nil)) ∷ (Data (Number (pos 64)) (Var 3 sort.Val) (Of2 binary.Cons (Of unary.Vi (Var 4 sort.Int)) (Of2 binary.Cons (Var 5 sort.Val) (Of2 binary.Cons (Of unary.Vi (Number (pos 3))) Nil)))) ∷ []) }); post = (record { opened = (sort.List ∷ sort.List ∷ []); facts = ([]); locals = []; items = ((Data (Number (pos 64)) (Var 0 sort.Val) (Var 7 sort.List)) ∷ (Data (Number (pos 64)) (Var 3 sort.Val) (Var 8 sort.List)) ∷ []) }) }) ∷ (record { is_void = false; name = name_main; params = ([]); vars = []; pre = (record { opened = []; facts = ([]); locals = []; items = ([]) }); post = (record { opened = []; facts = ((Rel relation.Eq (Var 0 sort.Val) (Of unary.Vi (Number (pos 0)))) ∷ []); locals = []; items = ([]) }) }) ∷ []) }) (record { is_void = false; name = name_f; params = (name_p00 ∷ name_u1 ∷ name_s2 ∷ []); vars = ((name_v0, sort.Val) ∷ (name_o0, sort.Int) ∷ (name_b1, sort.Int) ∷ (name_w2, sort.Val) ∷ (name_h2, sort.Int) ∷ (name_q2, sort.Val) ∷ []); pre = (record { opened = []; facts = ((Rel relation.Le (Number (pos 0)) (Var 1 sort.Int)) ∷ (Rel relation.Le (Var 1 sort.Int) (Number (pos 20))) ∷ (Rel relation.Le (Number (pos 0)) (Var 2 sort.Int)) ∷ (Rel relation.Le (Var 2 sort.Int) (Number (pos 31))) ∷ (Rel relation.Le (Number (pos 0)) (Var 4 sort.Int)) ∷ (Rel relation.Le (Var 4 sort.Int) (Number (pos 20))) ∷ []); locals = ((name_p00, (Var 0 sort.Val)) ∷ (name_u1, (Of unary.Vi (Var 2 sort.Int))) ∷ (name_s2, (Var 3 sort.Val)) ∷ []); items = ((Data (Number (pos 65)) (Var 0 sort.Val) (Of2 binary.Cons (Of unary.Vi (Var 1 sort.Int)) Nil)) ∷ (Data (Number (pos 64)) (Var 3 sort.Val) (Of2 binary.Cons (Of unary.Vi (Var 4 sort.Int)) (Of2 binary.Cons (Var 5 sort.Val) (Of2 binary.Cons (Of unary.Vi (Number (pos 3))) Nil)))) ∷ []) }); post = (record { opened = (sort.List ∷ sort.List ∷ []); facts = ([]); locals = []; items = ((Data (Number (pos 64)) (Var 0 sort.Val) (Var 7 sort.List)) ∷ (Data (Number (pos 64)) (Var 3 sort.Val) (Var 8 sort.List)) ∷ []) }) }) (record { temps = (name_p00 ∷ name_u1 ∷ name_s2 ∷ name_s ∷ name_t ∷ name_i ∷ name_x1 ∷ name_d0 ∷ name_p1 ∷ name_q1 ∷ []); body = (c.Then (c.Set 3 (c.Const 1)) (c.Then (c.Set 4 (c.Const 1)) (c.Then (c.Set 5 (c.Const 0)) (c.Then (c.Loop (c.Then (c.If (c.Nonzero kind.Signed (c.Binary two.Lt kind.Signed (c.Temp 5) (c.Const 4))) (c.Then c.Skip (c.Then (c.Set 5 (c.Binary two.Add kind.Signed (c.Temp 5) (c.Const 1))) (c.Then c.Continue c.End))) (c.Then c.Break c.End)) c.End)) (c.Then (c.Set 7 (c.Binary two.Add kind.Signed (c.Const 1) (c.Const 2))) (c.Then (c.Return (Some (c.Temp 3))) c.End)))))) }) (s.Then 1 (s.Split (Rel relation.Le (Named name_o0) (Number (pos 2))) ([]) ([])) (s.WithBlock (s.Then 2 (s.Set ([]) ([])) s.NoBlock (s.Then 3 (s.Apart 1 0 ([])) s.NoBlock (s.Then 4 (s.Set ([]) ([])) s.NoBlock (s.Then 5 (s.Set ([]) ([])) s.NoBlock (s.Then 6 (s.While (record { opened = (sort.Int ∷ []); facts = ((Rel relation.Le (Number (pos 0)) (Var 0 sort.Int)) ∷ (Rel relation.Le (Var 0 sort.Int) (Number (pos 4))) ∷ []); locals = ((name_p00, (Named name_v0)) ∷ (name_u1, (Of unary.Vi (Named name_b1))) ∷ (name_s2, (Named name_w2)) ∷ (name_s, (Of unary.Vi (Number (pos 1)))) ∷ (name_t, (Of unary.Vi (Number (pos 1)))) ∷ (name_i, (Of unary.Vi (Var 0 sort.Int))) ∷ []); items = ((Data (Number (pos 64)) (Named name_v0) (Of2 binary.Cons (Of unary.Vi (Named name_o0)) Nil)) ∷ (Data (Number (pos 64)) (Named name_w2) (Of2 binary.Cons (Of unary.Vi (Named name_h2)) (Of2 binary.Cons (Named name_q2) (Of2 binary.Cons (Of unary.Vi (Number (pos 3))) Nil)))) ∷ []) }) (record { opened = (sort.Int ∷ []); facts = ((Rel relation.Le (Number (pos 0)) (Var 0 sort.Int)) ∷ (Rel relation.Le (Var 0 sort.Int) (Number (pos 4))) ∷ (Rel relation.Le (Number (pos 4)) (Var 0 sort.Int)) ∷ []); locals = ((name_p00, (Named name_v0)) ∷ (name_u1, (Of unary.Vi (Named name_b1))) ∷ (name_s2, (Named name_w2)) ∷ (name_s, (Of unary.Vi (Number (pos 1)))) ∷ (name_t, (Of unary.Vi (Number (pos 1)))) ∷ (name_i, (Of unary.Vi (Var 0 sort.Int))) ∷ []); items = ((Data (Number (pos 64)) (Named name_v0) (Of2 binary.Cons (Of unary.Vi (Named name_o0)) Nil)) ∷ (Data (Number (pos 64)) (Named name_w2) (Of2 binary.Cons (Of unary.Vi (Named name_h2)) (Of2 binary.Cons (Named name_q2) (Of2 binary.Cons (Of unary.Vi (Number (pos 3))) Nil)))) ∷ []) }) (name_k2 ∷ []) ([]) (name_k1 ∷ [])) (s.WithBlock (s.Then 7 (s.Meet ((Number (pos 0)) ∷ []) ([])) s.NoBlock s.End) (s.WithBlock (s.Then 8 (s.If ([]) ((record { lines = ((line.Comb (((pos 1), 7) ∷ ((pos 1), 9) ∷ [])) ∷ []) }) ∷ (record { lines = ((line.Comb (((pos 1), 8) ∷ ((pos 1), 9) ∷ [])) ∷ []) }) ∷ []) ([]) ([])) (s.WithBlock (s.Then 9 s.Skip s.NoBlock (s.Then 10 (s.Set ([]) ((record { lines = ((line.Comb (((pos 1), 7) ∷ ((pos 1), 10) ∷ [])) ∷ []) }) ∷ (record { lines = ((line.Comb (((pos 1), 8) ∷ ((pos 1), 10) ∷ [])) ∷ []) }) ∷ (record { lines = ((line.Comb (((pos 1), 7) ∷ ((pos 1), 10) ∷ [])) ∷ []) }) ∷ (record { lines = ((line.Comb (((pos 1), 8) ∷ ((pos 1), 10) ∷ [])) ∷ []) }) ∷ [])) s.NoBlock (s.Then 11 (s.Continue ((Of2 binary.Add (Named name_k1) (Number (pos 1))) ∷ []) ((record { lines = ((line.Comb (((pos 1), 7) ∷ ((pos 1), 10) ∷ [])) ∷ []) }) ∷ [])) s.NoBlock s.End))) (s.WithBlock (s.Then 12 (s.Break ((Named name_k1) ∷ []) ([])) s.NoBlock s.End) s.NoBlock)) s.End) s.NoBlock)) (s.Then 13 (s.Set ([]) ([])) s.NoBlock (s.Then 14 (s.Law name_sub_one ((Of2 binary.Cons (Of unary.Vi (Named name_o0)) Nil) ∷ (Number (pos 0)) ∷ []) ([])) s.NoBlock (s.Then 15 (s.Return ((Of2 binary.Cons (Of unary.Vi (Named name_o0)) Nil) ∷ (Of2 binary.Cons (Of unary.Vi (Named name_h2)) (Of2 binary.Cons (Named name_q2) (Of2 binary.Cons (Of unary.Vi (Number (pos 3))) Nil))) ∷ []) ([]) ([])) s.NoBlock s.End)))))))) (s.WithBlock (s.Then 16 (s.Set ([]) ([])) s.NoBlock (s.Then 17 (s.Apart 1 0 ([])) s.NoBlock (s.Then 18 (s.Set ([]) ([])) s.NoBlock (s.Then 19 (s.Set ([]) ([])) s.NoBlock (s.Then 20 (s.While (record { opened = (sort.Int ∷ []); facts = ((Rel relation.Le (Number (pos 0)) (Var 0 sort.Int)) ∷ (Rel relation.Le (Var 0 sort.Int) (Number (pos 4))) ∷ []); locals = ((name_p00, (Named name_v0)) ∷ (name_u1, (Of unary.Vi (Named name_b1))) ∷ (name_s2, (Named name_w2)) ∷ (name_s, (Of unary.Vi (Number (pos 1)))) ∷ (name_t, (Of unary.Vi (Number (pos 1)))) ∷ (name_i, (Of unary.Vi (Var 0 sort.Int))) ∷ []); items = ((Data (Number (pos 64)) (Named name_v0) (Of2 binary.Cons (Of unary.Vi (Named name_o0)) Nil)) ∷ (Data (Number (pos 64)) (Named name_w2) (Of2 binary.Cons (Of unary.Vi (Named name_h2)) (Of2 binary.Cons (Named name_q2) (Of2 binary.Cons (Of unary.Vi (Number (pos 3))) Nil)))) ∷ []) }) (record { opened = (sort.Int ∷ []); facts = ((Rel relation.Le (Number (pos 0)) (Var 0 sort.Int)) ∷ (Rel relation.Le (Var 0 sort.Int) (Number (pos 4))) ∷ (Rel relation.Le (Number (pos 4)) (Var 0 sort.Int)) ∷ []); locals = ((name_p00, (Named name_v0)) ∷ (name_u1, (Of unary.Vi (Named name_b1))) ∷ (name_s2, (Named name_w2)) ∷ (name_s, (Of unary.Vi (Number (pos 1)))) ∷ (name_t, (Of unary.Vi (Number (pos 1)))) ∷ (name_i, (Of unary.Vi (Var 0 sort.Int))) ∷ []); items = ((Data (Number (pos 64)) (Named name_v0) (Of2 binary.Cons (Of unary.Vi (Named name_o0)) Nil)) ∷ (Data (Number (pos 64)) (Named name_w2) (Of2 binary.Cons (Of unary.Vi (Named name_h2)) (Of2 binary.Cons (Named name_q2) (Of2 binary.Cons (Of unary.Vi (Number (pos 3))) Nil)))) ∷ []) }) (name_k4 ∷ []) ([]) (name_k3 ∷ [])) (s.WithBlock (s.Then 21 (s.Meet ((Number (pos 0)) ∷ []) ([])) s.NoBlock s.End) (s.WithBlock (s.Then 22 (s.If ([]) ((record { lines = ((line.Comb (((pos 1), 7) ∷ ((pos 1), 9) ∷ [])) ∷ []) }) ∷ (record { lines = ((line.Comb (((pos 1), 8) ∷ ((pos 1), 9) ∷ [])) ∷ []) }) ∷ []) ([]) ([])) (s.WithBlock (s.Then 23 (s.Bounds 0 None ([])) s.NoBlock (s.Then 24 s.Skip s.NoBlock (s.Then 25 (s.Set ([]) ((record { lines = ((line.Comb (((pos 1), 7) ∷ ((pos 1), 12) ∷ [])) ∷ []) }) ∷ (record { lines = ((line.Comb (((pos 1), 8) ∷ ((pos 1), 12) ∷ [])) ∷ []) }) ∷ (record { lines = ((line.Comb (((pos 1), 7) ∷ ((pos 1), 12) ∷ [])) ∷ []) }) ∷ (record { lines = ((line.Comb (((pos 1), 8) ∷ ((pos 1), 12) ∷ [])) ∷ []) }) ∷ [])) s.NoBlock (s.Then 26 (s.Continue ((Of2 binary.Add (Named name_k3) (Number (pos 1))) ∷ []) ((record { lines = ((line.Comb (((pos 1), 7) ∷ ((pos 1), 12) ∷ [])) ∷ []) }) ∷ [])) s.NoBlock s.End)))) (s.WithBlock (s.Then 27 (s.Break ((Named name_k3) ∷ []) ([])) s.NoBlock s.End) s.NoBlock)) s.End) s.NoBlock)) (s.Then 28 (s.Set ([]) ([])) s.NoBlock (s.Then 29 (s.Return ((Of2 binary.Cons (Of unary.Vi (Named name_o0)) Nil) ∷ (Of2 binary.Cons (Of unary.Vi (Named name_h2)) (Of2 binary.Cons (Named name_q2) (Of2 binary.Cons (Of unary.Vi (Number (pos 3))) Nil))) ∷ []) ([]) ([])) s.NoBlock s.End))))))) s.NoBlock)) s.End) ≡ (RefusedAt 7 37 5)
unfolding computing
random_983 = refl

random_984 : body_verdict (record { predicates = ([]); specs = ((record { is_void = false; name = name_f; params = (name_p00 ∷ name_u1 ∷ name_s2 ∷ []); vars = ((name_v0, sort.Val) ∷ (name_o0, sort.Int) ∷ (name_b1, sort.Int) ∷ (name_w2, sort.Val) ∷ (name_h2, sort.Int) ∷ (name_q2, sort.Val) ∷ []); pre = (record { opened = []; facts = ((Rel relation.Le (Number (pos 0)) (Var 1 sort.Int)) ∷ (Rel relation.Le (Var 1 sort.Int) (Number (pos 20))) ∷ (Rel relation.Le (Number (pos 0)) (Var 2 sort.Int)) ∷ (Rel relation.Le (Var 2 sort.Int) (Number (pos 31))) ∷ (Rel relation.Le (Number (pos 0)) (Var 4 sort.Int)) ∷ (Rel relation.Le (Var 4 sort.Int) (Number (pos 20))) ∷ []); locals = ((name_p00, (Var 0 sort.Val)) ∷ (name_u1, (Of unary.Vi (Var 2 sort.Int))) ∷ (name_s2, (Var 3 sort.Val)) ∷ []); items = ((Data (Number (pos 65)) (Var 0 sort.Val) (Of2 binary.Cons (Of unary.Vi (Var 1 sort.Int)) Nil)) ∷ (Data (Number (pos 64)) (Var 3 sort.Val) (Of2 binary.Cons (Of unary.Vi (Var 4 sort.Int)) (Of2 binary.Cons (Var 5 sort.Val) (Of2 binary.Cons (Of unary.Vi (Number (pos 3))) Nil)))) ∷ []) }); post = (record { opened = (sort.List ∷ sort.List ∷ []); facts = ([]); locals = []; items = ((Data (Number (pos 64)) (Var 0 sort.Val) (Var 7 sort.List)) ∷ (Data (Number (pos 64)) (Var 3 sort.Val) (Var 8 sort.List)) ∷ []) }) }) ∷ (record { is_void = false; name = name_main; params = ([]); vars = []; pre = (record { opened = []; facts = ([]); locals = []; items = ([]) }); post = (record { opened = []; facts = ((Rel relation.Eq (Var 0 sort.Val) (Of unary.Vi (Number (pos 0)))) ∷ []); locals = []; items = ([]) }) }) ∷ []) }) (record { is_void = false; name = name_main; params = ([]); vars = []; pre = (record { opened = []; facts = ([]); locals = []; items = ([]) }); post = (record { opened = []; facts = ((Rel relation.Eq (Var 0 sort.Val) (Of unary.Vi (Number (pos 0)))) ∷ []); locals = []; items = ([]) }) }) (record { temps = ([]); body = (c.Then (c.Return (Some (c.Const 0))) c.End) }) (s.Then 1 (s.Return ([]) ([]) ([])) s.NoBlock s.End) ≡ Accepted
unfolding computing
random_984 = refl

random_985 : body_verdict (record { predicates = ([]); specs = ((record { is_void = false; name = name_f; params = (name_p00 ∷ name_u1 ∷ name_s2 ∷ []); vars = ((name_v0, sort.Val) ∷ (name_o0, sort.Int) ∷ (name_b1, sort.Int) ∷ (name_w2, sort.Val) ∷ (name_h2, sort.Int) ∷ (name_q2, sort.Val) ∷ []); pre = (record { opened = []; facts = ((Rel relation.Le (Number (pos 0)) (Var 1 sort.Int)) ∷ (Rel relation.Le (Var 1 sort.Int) (Number (pos 20))) ∷ (Rel relation.Le (Number (pos 0)) (Var 2 sort.Int)) ∷ (Rel relation.Le (Var 2 sort.Int) (Number (pos 31))) ∷ (Rel relation.Le (Number (pos 0)) (Var 4 sort.Int)) ∷ (Rel relation.Le (Var 4 sort.Int) (Number (pos 20))) ∷ []); locals = ((name_p00, (Var 0 sort.Val)) ∷ (name_u1, (Of unary.Vi (Var 2 sort.Int))) ∷ (name_s2, (Var 3 sort.Val)) ∷ []); items = ((Data (Number (pos 64)) (Var 0 sort.Val) (Of2 binary.Cons (Of unary.Vi (Var 1 sort.Int)) Nil)) ∷ (Data (Number (pos 64)) (Var 3 sort.Val) (Of2 binary.Cons (Of unary.Vi (Var 4 sort.Int)) (Of2 binary.Cons (Var 5 sort.Val) (Of2 binary.Cons (Of unary.Vi (Number (pos 3))) Nil)))) ∷ []) }); post = (record { opened = (sort.List ∷ sort.List ∷ []); facts = ([]); locals = []; items = ((Data (Number (pos 64)) (Var 0 sort.Val) (Var 7 sort.List)) ∷ (Data (Number (pos 64)) (Var 3 sort.Val) (Var 8 sort.List)) ∷ []) }) }) ∷ (record { is_void = false; name = name_main; params = ([]); vars = []; pre = (record { opened = []; facts = ([]); locals = []; items = ([]) }); post = (record { opened = []; facts = ((Rel relation.Eq (Var 0 sort.Val) (Of unary.Vi (Number (pos 0)))) ∷ []); locals = []; items = ([]) }) }) ∷ []) }) (record { is_void = false; name = name_f; params = (name_p00 ∷ name_u1 ∷ name_s2 ∷ []); vars = ((name_v0, sort.Val) ∷ (name_o0, sort.Int) ∷ (name_b1, sort.Int) ∷ (name_w2, sort.Val) ∷ (name_h2, sort.Int) ∷ (name_q2, sort.Val) ∷ []); pre = (record { opened = []; facts = ((Rel relation.Le (Number (pos 0)) (Var 1 sort.Int)) ∷ (Rel relation.Le (Var 1 sort.Int) (Number (pos 20))) ∷ (Rel relation.Le (Number (pos 0)) (Var 2 sort.Int)) ∷ (Rel relation.Le (Var 2 sort.Int) (Number (pos 31))) ∷ (Rel relation.Le (Number (pos 0)) (Var 4 sort.Int)) ∷ (Rel relation.Le (Var 4 sort.Int) (Number (pos 20))) ∷ []); locals = ((name_p00, (Var 0 sort.Val)) ∷ (name_u1, (Of unary.Vi (Var 2 sort.Int))) ∷ (name_s2, (Var 3 sort.Val)) ∷ []); items = ((Data (Number (pos 64)) (Var 0 sort.Val) (Of2 binary.Cons (Of unary.Vi (Var 1 sort.Int)) Nil)) ∷ (Data (Number (pos 64)) (Var 3 sort.Val) (Of2 binary.Cons (Of unary.Vi (Var 4 sort.Int)) (Of2 binary.Cons (Var 5 sort.Val) (Of2 binary.Cons (Of unary.Vi (Number (pos 3))) Nil)))) ∷ []) }); post = (record { opened = (sort.List ∷ sort.List ∷ []); facts = ([]); locals = []; items = ((Data (Number (pos 64)) (Var 0 sort.Val) (Var 7 sort.List)) ∷ (Data (Number (pos 64)) (Var 3 sort.Val) (Var 8 sort.List)) ∷ []) }) }) (record { temps = (name_p00 ∷ name_u1 ∷ name_s2 ∷ name_s ∷ name_t ∷ name_i ∷ name_x1 ∷ name_d0 ∷ name_p1 ∷ name_q1 ∷ []); body = (c.Then (c.Set 3 (c.Const 1)) (c.Then (c.Set 4 (c.Const 1)) (c.Then (c.Set 5 (c.Const 0)) (c.Then (c.Loop (c.Then (c.If (c.Nonzero kind.Signed (c.Binary two.Lt kind.Signed (c.Temp 5) (c.Const 4))) (c.Then c.Skip (c.Then (c.Set 5 (c.Binary two.Add kind.Signed (c.Temp 5) (c.Const 1))) (c.Then c.Continue c.End))) (c.Then c.Break c.End)) c.End)) (c.Then (c.Set 7 (c.Binary two.Add kind.Signed (c.Const 1) (c.Const 2))) (c.Then (c.Return (Some (c.Temp 3))) c.End)))))) }) (s.Then 1 (s.Split (Rel relation.Le (Named name_o0) (Number (pos 2))) ([]) ([])) (s.WithBlock (s.Then 2 (s.Set ([]) ([])) s.NoBlock (s.Then 3 (s.Apart 1 0 ([])) s.NoBlock (s.Then 4 (s.Set ([]) ([])) s.NoBlock (s.Then 5 (s.Set ([]) ([])) s.NoBlock (s.Then 6 (s.While (record { opened = (sort.Int ∷ []); facts = ((Rel relation.Le (Number (pos 0)) (Var 0 sort.Int)) ∷ (Rel relation.Le (Var 0 sort.Int) (Number (pos 4))) ∷ []); locals = ((name_p00, (Named name_v0)) ∷ (name_u1, (Of unary.Vi (Named name_b1))) ∷ (name_s2, (Named name_w2)) ∷ (name_s, (Of unary.Vi (Number (pos 1)))) ∷ (name_t, (Of unary.Vi (Number (pos 1)))) ∷ (name_i, (Of unary.Vi (Var 0 sort.Int))) ∷ []); items = ((Data (Number (pos 64)) (Named name_v0) (Of2 binary.Cons (Of unary.Vi (Named name_o0)) Nil)) ∷ (Data (Number (pos 64)) (Named name_w2) (Of2 binary.Cons (Of unary.Vi (Named name_h2)) (Of2 binary.Cons (Named name_q2) (Of2 binary.Cons (Of unary.Vi (Number (pos 3))) Nil)))) ∷ []) }) (record { opened = (sort.Int ∷ []); facts = ((Rel relation.Le (Number (pos 0)) (Var 0 sort.Int)) ∷ (Rel relation.Le (Var 0 sort.Int) (Number (pos 4))) ∷ (Rel relation.Le (Number (pos 4)) (Var 0 sort.Int)) ∷ []); locals = ((name_p00, (Named name_v0)) ∷ (name_u1, (Of unary.Vi (Named name_b1))) ∷ (name_s2, (Named name_w2)) ∷ (name_s, (Of unary.Vi (Number (pos 1)))) ∷ (name_t, (Of unary.Vi (Number (pos 1)))) ∷ (name_i, (Of unary.Vi (Var 0 sort.Int))) ∷ []); items = ((Data (Number (pos 64)) (Named name_v0) (Of2 binary.Cons (Of unary.Vi (Named name_o0)) Nil)) ∷ (Data (Number (pos 64)) (Named name_w2) (Of2 binary.Cons (Of unary.Vi (Named name_h2)) (Of2 binary.Cons (Named name_q2) (Of2 binary.Cons (Of unary.Vi (Number (pos 3))) Nil)))) ∷ []) }) (name_k2 ∷ []) ([]) (name_k1 ∷ [])) (s.WithBlock (s.Then 7 (s.Meet ((Number (pos 0)) ∷ []) ([])) s.NoBlock s.End) (s.WithBlock (s.Then 8 (s.If ([]) ((record { lines = ((line.Comb (((pos 1), 7) ∷ ((pos 1), 9) ∷ [])) ∷ []) }) ∷ (record { lines = ((line.Comb (((pos 1), 8) ∷ ((pos 1), 9) ∷ [])) ∷ []) }) ∷ []) ([]) ([])) (s.WithBlock (s.Then 9 s.Skip s.NoBlock (s.Then 10 (s.Set ([]) ((record { lines = ((line.Comb (((pos 1), 7) ∷ ((pos 1), 10) ∷ [])) ∷ []) }) ∷ (record { lines = ((line.Comb (((pos 1), 8) ∷ ((pos 1), 10) ∷ [])) ∷ []) }) ∷ (record { lines = ((line.Comb (((pos 1), 7) ∷ ((pos 1), 10) ∷ [])) ∷ []) }) ∷ (record { lines = ((line.Comb (((pos 1), 8) ∷ ((pos 1), 10) ∷ [])) ∷ []) }) ∷ [])) s.NoBlock (s.Then 11 (s.Continue ((Of2 binary.Add (Named name_k1) (Number (pos 1))) ∷ []) ((record { lines = ((line.Comb (((pos 1), 7) ∷ ((pos 1), 10) ∷ [])) ∷ []) }) ∷ [])) s.NoBlock s.End))) (s.WithBlock (s.Then 12 (s.Break ((Named name_k1) ∷ []) ([])) s.NoBlock s.End) s.NoBlock)) s.End) s.NoBlock)) (s.Then 13 (s.Set ([]) ([])) s.NoBlock (s.Then 14 (s.Law name_sub_one ((Of2 binary.Cons (Of unary.Vi (Named name_o0)) Nil) ∷ (Number (pos 0)) ∷ []) ([])) s.NoBlock (s.Then 15 (s.Return ((Of2 binary.Cons (Of unary.Vi (Named name_o0)) Nil) ∷ (Of2 binary.Cons (Of unary.Vi (Named name_h2)) (Of2 binary.Cons (Named name_q2) (Of2 binary.Cons (Of unary.Vi (Number (pos 3))) Nil))) ∷ []) ([]) ([])) s.NoBlock s.End)))))))) (s.WithBlock (s.Then 16 (s.Set ([]) ([])) s.NoBlock (s.Then 17 (s.Apart 1 0 ([])) s.NoBlock (s.Then 18 (s.Set ([]) ([])) s.NoBlock (s.Then 19 (s.Set ([]) ([])) s.NoBlock (s.Then 20 (s.Set ([]) ([])) s.NoBlock (s.Then 21 (s.While (record { opened = (sort.Int ∷ []); facts = ((Rel relation.Le (Number (pos 0)) (Var 0 sort.Int)) ∷ (Rel relation.Le (Var 0 sort.Int) (Number (pos 4))) ∷ []); locals = ((name_p00, (Named name_v0)) ∷ (name_u1, (Of unary.Vi (Named name_b1))) ∷ (name_s2, (Named name_w2)) ∷ (name_s, (Of unary.Vi (Number (pos 1)))) ∷ (name_t, (Of unary.Vi (Number (pos 1)))) ∷ (name_i, (Of unary.Vi (Var 0 sort.Int))) ∷ []); items = ((Data (Number (pos 64)) (Named name_v0) (Of2 binary.Cons (Of unary.Vi (Named name_o0)) Nil)) ∷ (Data (Number (pos 64)) (Named name_w2) (Of2 binary.Cons (Of unary.Vi (Named name_h2)) (Of2 binary.Cons (Named name_q2) (Of2 binary.Cons (Of unary.Vi (Number (pos 3))) Nil)))) ∷ []) }) (record { opened = (sort.Int ∷ []); facts = ((Rel relation.Le (Number (pos 0)) (Var 0 sort.Int)) ∷ (Rel relation.Le (Var 0 sort.Int) (Number (pos 4))) ∷ (Rel relation.Le (Number (pos 4)) (Var 0 sort.Int)) ∷ []); locals = ((name_p00, (Named name_v0)) ∷ (name_u1, (Of unary.Vi (Named name_b1))) ∷ (name_s2, (Named name_w2)) ∷ (name_s, (Of unary.Vi (Number (pos 1)))) ∷ (name_t, (Of unary.Vi (Number (pos 1)))) ∷ (name_i, (Of unary.Vi (Var 0 sort.Int))) ∷ []); items = ((Data (Number (pos 64)) (Named name_v0) (Of2 binary.Cons (Of unary.Vi (Named name_o0)) Nil)) ∷ (Data (Number (pos 64)) (Named name_w2) (Of2 binary.Cons (Of unary.Vi (Named name_h2)) (Of2 binary.Cons (Named name_q2) (Of2 binary.Cons (Of unary.Vi (Number (pos 3))) Nil)))) ∷ []) }) (name_k4 ∷ []) ([]) (name_k3 ∷ [])) (s.WithBlock (s.Then 22 (s.Meet ((Number (pos 0)) ∷ []) ([])) s.NoBlock s.End) (s.WithBlock (s.Then 23 (s.If ([]) ((record { lines = ((line.Comb (((pos 1), 7) ∷ ((pos 1), 9) ∷ [])) ∷ []) }) ∷ (record { lines = ((line.Comb (((pos 1), 8) ∷ ((pos 1), 9) ∷ [])) ∷ []) }) ∷ []) ([]) ([])) (s.WithBlock (s.Then 24 (s.Bounds 0 None ([])) s.NoBlock (s.Then 25 s.Skip s.NoBlock (s.Then 26 (s.Set ([]) ((record { lines = ((line.Comb (((pos 1), 7) ∷ ((pos 1), 12) ∷ [])) ∷ []) }) ∷ (record { lines = ((line.Comb (((pos 1), 8) ∷ ((pos 1), 12) ∷ [])) ∷ []) }) ∷ (record { lines = ((line.Comb (((pos 1), 7) ∷ ((pos 1), 12) ∷ [])) ∷ []) }) ∷ (record { lines = ((line.Comb (((pos 1), 8) ∷ ((pos 1), 12) ∷ [])) ∷ []) }) ∷ [])) s.NoBlock (s.Then 27 (s.Continue ((Of2 binary.Add (Named name_k3) (Number (pos 1))) ∷ []) ((record { lines = ((line.Comb (((pos 1), 7) ∷ ((pos 1), 12) ∷ [])) ∷ []) }) ∷ [])) s.NoBlock s.End)))) (s.WithBlock (s.Then 28 (s.Break ((Named name_k3) ∷ []) ([])) s.NoBlock s.End) s.NoBlock)) s.End) s.NoBlock)) (s.Then 29 s.Skip s.NoBlock (s.Then 30 (s.Set ([]) ([])) s.NoBlock (s.Then 31 (s.Return ((Of2 binary.Cons (Of unary.Vi (Named name_o0)) Nil) ∷ (Of2 binary.Cons (Of unary.Vi (Named name_h2)) (Of2 binary.Cons (Named name_q2) (Of2 binary.Cons (Of unary.Vi (Number (pos 3))) Nil))) ∷ []) ([]) ([])) s.NoBlock s.End))))))))) s.NoBlock)) s.End) ≡ (RefusedAt 20 2 1)
unfolding computing
random_985 = refl

random_986 : body_verdict (record { predicates = ([]); specs = ((record { is_void = true; name = name_f; params = ([]); vars = ((name_a, sort.Int) ∷ (name_b, sort.Int) ∷ (name_s, sort.Int) ∷ (name_c, sort.Int) ∷ (name_v, sort.Val) ∷ (name_w, sort.Val) ∷ (name_y, sort.Val) ∷ (name_l, sort.List) ∷ (name_m, sort.List) ∷ []); pre = (record { opened = []; facts = ((Rel relation.Eq (Var 7 sort.List) (Of2 binary.App (Var 7 sort.List) (Var 7 sort.List))) ∷ []); locals = []; items = ((Data (Number (pos 64)) (Var 4 sort.Val) (Var 7 sort.List)) ∷ (Data (Number (pos 64)) (Var 5 sort.Val) (Of2 binary.App (Var 7 sort.List) (Of2 binary.App (Var 7 sort.List) (Var 7 sort.List)))) ∷ (Data (Number (pos 64)) (Var 5 sort.Val) (Of2 binary.App (Var 7 sort.List) (Of2 binary.App (Var 7 sort.List) (Var 7 sort.List)))) ∷ []) }); post = (record { opened = []; facts = ([]); locals = []; items = ((Data (Number (pos 64)) (Var 4 sort.Val) (Var 7 sort.List)) ∷ (Data (Number (pos 64)) (Var 5 sort.Val) (Of2 binary.App (Var 7 sort.List) (Of2 binary.App (Var 7 sort.List) (Var 7 sort.List)))) ∷ (Data (Number (pos 64)) (Var 5 sort.Val) (Of2 binary.App (Var 7 sort.List) (Of2 binary.App (Var 7 sort.List) (Var 7 sort.List)))) ∷ []) }) }) ∷ []) }) (record { is_void = true; name = name_f; params = ([]); vars = ((name_a, sort.Int) ∷ (name_b, sort.Int) ∷ (name_s, sort.Int) ∷ (name_c, sort.Int) ∷ (name_v, sort.Val) ∷ (name_w, sort.Val) ∷ (name_y, sort.Val) ∷ (name_l, sort.List) ∷ (name_m, sort.List) ∷ []); pre = (record { opened = []; facts = ((Rel relation.Eq (Var 7 sort.List) (Of2 binary.App (Var 7 sort.List) (Var 7 sort.List))) ∷ []); locals = []; items = ((Data (Number (pos 64)) (Var 4 sort.Val) (Var 7 sort.List)) ∷ (Data (Number (pos 64)) (Var 5 sort.Val) (Of2 binary.App (Var 7 sort.List) (Of2 binary.App (Var 7 sort.List) (Var 7 sort.List)))) ∷ (Data (Number (pos 64)) (Var 5 sort.Val) (Of2 binary.App (Var 7 sort.List) (Of2 binary.App (Var 7 sort.List) (Var 7 sort.List)))) ∷ []) }); post = (record { opened = []; facts = ([]); locals = []; items = ((Data (Number (pos 64)) (Var 4 sort.Val) (Var 7 sort.List)) ∷ (Data (Number (pos 64)) (Var 5 sort.Val) (Of2 binary.App (Var 7 sort.List) (Of2 binary.App (Var 7 sort.List) (Var 7 sort.List)))) ∷ (Data (Number (pos 64)) (Var 5 sort.Val) (Of2 binary.App (Var 7 sort.List) (Of2 binary.App (Var 7 sort.List) (Var 7 sort.List)))) ∷ []) }) }) (record { temps = ([]); body = (c.Then (c.Return None) c.End) }) (s.Then 1 (s.Rewrite false 0 (occurrence.Item 0)) s.NoBlock (s.Then 2 (s.Rewrite false 0 (occurrence.Item 0)) s.NoBlock (s.Then 3 (s.Rewrite false 0 (occurrence.Item 0)) s.NoBlock (s.Then 4 (s.Rewrite false 0 (occurrence.Item 0)) s.NoBlock (s.Then 5 (s.Rewrite false 0 (occurrence.Item 0)) s.NoBlock (s.Then 6 (s.Rewrite false 0 (occurrence.Item 0)) s.NoBlock (s.Then 7 (s.Rewrite false 0 (occurrence.Item 0)) s.NoBlock (s.Then 8 (s.Rewrite false 0 (occurrence.Item 0)) s.NoBlock (s.Then 9 (s.Rewrite false 0 (occurrence.Item 0)) s.NoBlock (s.Then 10 (s.Rewrite false 0 (occurrence.Item 0)) s.NoBlock (s.Then 11 (s.Rewrite false 0 (occurrence.Item 0)) s.NoBlock (s.Then 12 (s.Rewrite false 0 (occurrence.Item 0)) s.NoBlock (s.Then 13 (s.Rewrite false 0 (occurrence.Item 0)) s.NoBlock (s.Then 14 (s.Rewrite false 0 (occurrence.Item 0)) s.NoBlock (s.Then 15 (s.Rewrite false 0 (occurrence.Item 0)) s.NoBlock (s.Then 16 (s.Rewrite false 0 (occurrence.Item 0)) s.NoBlock (s.Then 17 (s.Rewrite false 0 (occurrence.Item 0)) s.NoBlock (s.Then 18 (s.Rewrite false 0 (occurrence.Item 0)) s.NoBlock (s.Then 19 (s.Return ([]) ([]) ([])) s.NoBlock s.End))))))))))))))))))) ≡ (RefusedAt 15 0 12)
unfolding computing
random_986 = refl

random_987 : body_verdict (record { predicates = ([]); specs = ((record { is_void = false; name = name_f; params = (name_n0 ∷ name_s1 ∷ name_n2 ∷ []); vars = ((name_a0, sort.Int) ∷ (name_w1, sort.Val) ∷ (name_h1, sort.Int) ∷ (name_q1, sort.Val) ∷ (name_a2, sort.Int) ∷ []); pre = (record { opened = []; facts = ((Rel relation.Le (Number (pos 0)) (Var 0 sort.Int)) ∷ (Rel relation.Le (Var 0 sort.Int) (Number (pos 100))) ∷ (Rel relation.Le (Number (pos 0)) (Var 2 sort.Int)) ∷ (Rel relation.Le (Var 2 sort.Int) (Number (pos 20))) ∷ (Rel relation.Le (Number (pos 0)) (Var 4 sort.Int)) ∷ (Rel relation.Le (Var 4 sort.Int) (Number (pos 1000))) ∷ []); locals = ((name_n0, (Of unary.Vi (Var 0 sort.Int))) ∷ (name_s1, (Var 1 sort.Val)) ∷ (name_n2, (Of unary.Vi (Var 4 sort.Int))) ∷ []); items = ((Data (Number (pos 64)) (Var 1 sort.Val) (Of2 binary.Cons (Of unary.Vi (Var 2 sort.Int)) (Of2 binary.Cons (Var 3 sort.Val) (Of2 binary.Cons (Of unary.Vi (Number (pos 3))) Nil)))) ∷ []) }); post = (record { opened = []; facts = ((Rel relation.Eq (Var 5 sort.Val) (Of unary.Vi (Number (pos 0)))) ∷ []); locals = []; items = ((Data (Number (pos 64)) (Var 1 sort.Val) (Of2 binary.Cons (Of unary.Vi (Number (pos 2))) (Of2 binary.Cons (Var 3 sort.Val) (Of2 binary.Cons (Of unary.Vi (Number (pos 3))) Nil)))) ∷ []) }) }) ∷ (record { is_void = false; name = name_main; params = ([]); vars = []; pre = (record { opened = []; facts = ([]); locals = []; items = ([]) }); post = (record { opened = []; facts = ((Rel relation.Eq (Var 0 sort.Val) (Of unary.Vi (Number (pos 0)))) ∷ []); locals = []; items = ([]) }) }) ∷ []) }) (record { is_void = false; name = name_f; params = (name_n0 ∷ name_s1 ∷ name_n2 ∷ []); vars = ((name_a0, sort.Int) ∷ (name_w1, sort.Val) ∷ (name_h1, sort.Int) ∷ (name_q1, sort.Val) ∷ (name_a2, sort.Int) ∷ []); pre = (record { opened = []; facts = ((Rel relation.Le (Number (pos 0)) (Var 0 sort.Int)) ∷ (Rel relation.Le (Var 0 sort.Int) (Number (pos 100))) ∷ (Rel relation.Le (Number (pos 0)) (Var 2 sort.Int)) ∷ (Rel relation.Le (Var 2 sort.Int) (Number (pos 20))) ∷ (Rel relation.Le (Number (pos 0)) (Var 4 sort.Int)) ∷ (Rel relation.Le (Var 4 sort.Int) (Number (pos 1000))) ∷ []); locals = ((name_n0, (Of unary.Vi (Var 0 sort.Int))) ∷ (name_s1, (Var 1 sort.Val)) ∷ (name_n2, (Of unary.Vi (Var 4 sort.Int))) ∷ []); items = ((Data (Number (pos 64)) (Var 1 sort.Val) (Of2 binary.Cons (Of unary.Vi (Var 2 sort.Int)) (Of2 binary.Cons (Var 3 sort.Val) (Of2 binary.Cons (Of unary.Vi (Number (pos 3))) Nil)))) ∷ []) }); post = (record { opened = []; facts = ((Rel relation.Eq (Var 5 sort.Val) (Of unary.Vi (Number (pos 0)))) ∷ []); locals = []; items = ((Data (Number (pos 64)) (Var 1 sort.Val) (Of2 binary.Cons (Of unary.Vi (Number (pos 2))) (Of2 binary.Cons (Var 3 sort.Val) (Of2 binary.Cons (Of unary.Vi (Number (pos 3))) Nil)))) ∷ []) }) }) (record { temps = (name_n0 ∷ name_s1 ∷ name_n2 ∷ name_s ∷ name_t ∷ name_i ∷ name_x1 ∷ name_d0 ∷ name_p1 ∷ name_q1 ∷ []); body = (c.Then (c.Set 3 (c.Const 1)) (c.Then (c.Set 4 (c.Const 3)) (c.Then (c.Set 3 (c.Temp 2)) (c.Then (c.Set 7 (c.Binary two.Add kind.Signed (c.Temp 2) (c.Binary two.Sub kind.Signed (c.Const 3) (c.Const 1)))) (c.Then (c.Store (root.Temp 1) (c.Offset 0 c.Here) (c.Const 2)) (c.Then (c.Set 4 (c.Binary two.Add kind.Signed (c.Binary two.Sub kind.Signed (c.Const 3) (c.Const 1)) (c.Const 1))) (c.Then (c.Return (Some (c.Const 0))) c.End))))))) }) (s.Then 1 (s.Set ([]) ([])) s.NoBlock (s.Then 2 (s.Set ([]) ([])) s.NoBlock (s.Then 3 (s.Set ([]) ([])) s.NoBlock (s.Then 4 (s.Set ([]) ((record { lines = ((line.Comb (((pos 1), 4) ∷ ((pos 1), 6) ∷ [])) ∷ []) }) ∷ (record { lines = ((line.Comb (((pos 1), 5) ∷ ((pos 1), 6) ∷ [])) ∷ []) }) ∷ (record { lines = ((line.Comb (((pos 1), 4) ∷ ((pos 1), 6) ∷ [])) ∷ []) }) ∷ (record { lines = ((line.Comb (((pos 1), 5) ∷ ((pos 1), 6) ∷ [])) ∷ []) }) ∷ [])) s.NoBlock (s.Then 5 (s.Store 0 ([]) ([])) s.NoBlock (s.Then 6 (s.Naming name_k1 (Named name_w1)) s.NoBlock (s.Then 7 (s.Set ([]) ([])) s.NoBlock (s.Then 8 (s.Return ([]) ([]) ([])) s.NoBlock s.End)))))))) ≡ Accepted
unfolding computing
random_987 = refl

random_988 : body_verdict (record { predicates = ([]); specs = ((record { is_void = false; name = name_f; params = (name_n0 ∷ name_s1 ∷ name_n2 ∷ []); vars = ((name_a0, sort.Int) ∷ (name_w1, sort.Val) ∷ (name_h1, sort.Int) ∷ (name_q1, sort.Val) ∷ (name_a2, sort.Int) ∷ []); pre = (record { opened = []; facts = ((Rel relation.Le (Number (pos 0)) (Var 0 sort.Int)) ∷ (Rel relation.Le (Var 0 sort.Int) (Number (pos 100))) ∷ (Rel relation.Le (Number (pos 0)) (Var 2 sort.Int)) ∷ (Rel relation.Le (Var 2 sort.Int) (Number (pos 20))) ∷ (Rel relation.Le (Number (pos 0)) (Var 4 sort.Int)) ∷ (Rel relation.Le (Var 4 sort.Int) (Number (pos 1000))) ∷ []); locals = ((name_n0, (Of unary.Vi (Var 0 sort.Int))) ∷ (name_s1, (Var 1 sort.Val)) ∷ (name_n2, (Of unary.Vi (Var 4 sort.Int))) ∷ []); items = ((Data (Number (pos 64)) (Var 1 sort.Val) (Of2 binary.Cons (Of unary.Vi (Var 2 sort.Int)) (Of2 binary.Cons (Var 3 sort.Val) (Of2 binary.Cons (Of unary.Vi (Number (pos 3))) Nil)))) ∷ []) }); post = (record { opened = []; facts = ((Rel relation.Eq (Var 5 sort.Val) (Of unary.Vi (Number (pos 0)))) ∷ []); locals = []; items = ((Data (Number (pos 64)) (Var 1 sort.Val) (Of2 binary.Cons (Of unary.Vi (Number (pos 2))) (Of2 binary.Cons (Var 3 sort.Val) (Of2 binary.Cons (Of unary.Vi (Number (pos 3))) Nil)))) ∷ []) }) }) ∷ (record { is_void = false; name = name_main; params = ([]); vars = []; pre = (record { opened = []; facts = ([]); locals = []; items = ([]) }); post = (record { opened = []; facts = ((Rel relation.Eq (Var 0 sort.Val) (Of unary.Vi (Number (pos 0)))) ∷ []); locals = []; items = ([]) }) }) ∷ []) }) (record { is_void = false; name = name_main; params = ([]); vars = []; pre = (record { opened = []; facts = ([]); locals = []; items = ([]) }); post = (record { opened = []; facts = ((Rel relation.Eq (Var 0 sort.Val) (Of unary.Vi (Number (pos 0)))) ∷ []); locals = []; items = ([]) }) }) (record { temps = ([]); body = (c.Then (c.Return (Some (c.Const 0))) c.End) }) (s.Then 1 (s.Return ([]) ([]) ([])) s.NoBlock s.End) ≡ Accepted
unfolding computing
random_988 = refl

random_989 : body_verdict (record { predicates = ([]); specs = ((record { is_void = false; name = name_f; params = (name_n0 ∷ name_s1 ∷ name_n2 ∷ []); vars = ((name_a0, sort.Int) ∷ (name_w1, sort.Val) ∷ (name_h1, sort.Int) ∷ (name_q1, sort.Val) ∷ (name_a2, sort.Int) ∷ []); pre = (record { opened = []; facts = ((Rel relation.Le (Number (pos 0)) (Var 0 sort.Int)) ∷ (Rel relation.Le (Var 0 sort.Int) (Number (pos 100))) ∷ (Rel relation.Le (Number (pos 0)) (Var 2 sort.Int)) ∷ (Rel relation.Le (Var 2 sort.Int) (Number (pos 20))) ∷ (Rel relation.Le (Number (pos 0)) (Var 4 sort.Int)) ∷ (Rel relation.Le (Var 4 sort.Int) (Number (pos 1000))) ∷ []); locals = ((name_n0, (Of unary.Vi (Var 0 sort.Int))) ∷ (name_s1, (Var 1 sort.Val)) ∷ (name_n2, (Of unary.Vi (Var 4 sort.Int))) ∷ []); items = ((Data (Number (pos 64)) (Var 1 sort.Val) (Of2 binary.Cons (Of unary.Vi (Var 2 sort.Int)) (Of2 binary.Cons (Var 3 sort.Val) (Of2 binary.Cons (Of unary.Vi (Number (pos 3))) Nil)))) ∷ []) }); post = (record { opened = []; facts = ((Rel relation.Eq (Var 5 sort.Val) (Of unary.Vi (Number (pos 0)))) ∷ []); locals = []; items = ((Data (Number (pos 64)) (Var 1 sort.Val) (Of2 binary.Cons (Of unary.Vi (Number (pos 2))) (Of2 binary.Cons (Var 3 sort.Val) (Of2 binary.Cons (Of unary.Vi (Number (pos 3))) Nil)))) ∷ []) }) }) ∷ (record { is_void = false; name = name_main; params = ([]); vars = []; pre = (record { opened = []; facts = ([]); locals = []; items = ([]) }); post = (record { opened = []; facts = ((Rel relation.Eq (Var 0 sort.Val) (Of unary.Vi (Number (pos 0)))) ∷ []); locals = []; items = ([]) }) }) ∷ []) }) (record { is_void = false; name = name_f; params = (name_n0 ∷ name_s1 ∷ name_n2 ∷ []); vars = ((name_a0, sort.Int) ∷ (name_w1, sort.Val) ∷ (name_h1, sort.Int) ∷ (name_q1, sort.Val) ∷ (name_a2, sort.Int) ∷ []); pre = (record { opened = []; facts = ((Rel relation.Le (Number (pos 0)) (Var 0 sort.Int)) ∷ (Rel relation.Le (Var 0 sort.Int) (Number (pos 100))) ∷ (Rel relation.Le (Number (pos 0)) (Var 2 sort.Int)) ∷ (Rel relation.Le (Var 2 sort.Int) (Number (pos 20))) ∷ (Rel relation.Le (Number (pos 0)) (Var 4 sort.Int)) ∷ (Rel relation.Le (Var 4 sort.Int) (Number (pos 1000))) ∷ []); locals = ((name_n0, (Of unary.Vi (Var 0 sort.Int))) ∷ (name_s1, (Var 1 sort.Val)) ∷ (name_n2, (Of unary.Vi (Var 4 sort.Int))) ∷ []); items = ((Data (Number (pos 64)) (Var 1 sort.Val) (Of2 binary.Cons (Of unary.Vi (Var 2 sort.Int)) (Of2 binary.Cons (Var 3 sort.Val) (Of2 binary.Cons (Of unary.Vi (Number (pos 3))) Nil)))) ∷ []) }); post = (record { opened = []; facts = ((Rel relation.Eq (Var 5 sort.Val) (Of unary.Vi (Number (pos 0)))) ∷ []); locals = []; items = ((Data (Number (pos 64)) (Var 1 sort.Val) (Of2 binary.Cons (Of unary.Vi (Number (pos 2))) (Of2 binary.Cons (Var 3 sort.Val) (Of2 binary.Cons (Of unary.Vi (Number (pos 3))) Nil)))) ∷ []) }) }) (record { temps = (name_n0 ∷ name_s1 ∷ name_n2 ∷ name_s ∷ name_t ∷ name_i ∷ name_x1 ∷ name_d0 ∷ name_p1 ∷ name_q1 ∷ []); body = (c.Then (c.Set 3 (c.Const 1)) (c.Then (c.Set 4 (c.Const 3)) (c.Then (c.Set 3 (c.Temp 2)) (c.Then (c.Set 7 (c.Binary two.Add kind.Signed (c.Temp 2) (c.Binary two.Sub kind.Signed (c.Const 3) (c.Const 1)))) (c.Then (c.Store (root.Temp 1) (c.Offset 0 c.Here) (c.Const 3)) (c.Then (c.Set 4 (c.Binary two.Add kind.Signed (c.Binary two.Sub kind.Signed (c.Const 3) (c.Const 1)) (c.Const 1))) (c.Then (c.Return (Some (c.Const 0))) c.End))))))) }) (s.Then 1 (s.Set ([]) ([])) s.NoBlock (s.Then 2 (s.Set ([]) ([])) s.NoBlock (s.Then 3 (s.Set ([]) ([])) s.NoBlock (s.Then 4 (s.Set ([]) ((record { lines = ((line.Comb (((pos 1), 4) ∷ ((pos 1), 6) ∷ [])) ∷ []) }) ∷ (record { lines = ((line.Comb (((pos 1), 5) ∷ ((pos 1), 6) ∷ [])) ∷ []) }) ∷ (record { lines = ((line.Comb (((pos 1), 4) ∷ ((pos 1), 6) ∷ [])) ∷ []) }) ∷ (record { lines = ((line.Comb (((pos 1), 5) ∷ ((pos 1), 6) ∷ [])) ∷ []) }) ∷ [])) s.NoBlock (s.Then 5 (s.Store 0 ([]) ([])) s.NoBlock (s.Then 6 (s.Naming name_k1 (Named name_w1)) s.NoBlock (s.Then 7 (s.Set ([]) ([])) s.NoBlock (s.Then 8 (s.Return ([]) ([]) ([])) s.NoBlock s.End)))))))) ≡ (RefusedAt 8 9 5)
unfolding computing
random_989 = refl

random_990 : body_verdict (record { predicates = ([]); specs = ((record { is_void = false; name = name_f; params = (name_n0 ∷ name_s1 ∷ name_n2 ∷ []); vars = ((name_a0, sort.Int) ∷ (name_w1, sort.Val) ∷ (name_h1, sort.Int) ∷ (name_q1, sort.Val) ∷ (name_a2, sort.Int) ∷ []); pre = (record { opened = []; facts = ((Rel relation.Le (Number (pos 0)) (Var 0 sort.Int)) ∷ (Rel relation.Le (Var 0 sort.Int) (Number (pos 100))) ∷ (Rel relation.Le (Number (pos 0)) (Var 2 sort.Int)) ∷ (Rel relation.Le (Var 2 sort.Int) (Number (pos 20))) ∷ (Rel relation.Le (Number (pos 0)) (Var 4 sort.Int)) ∷ (Rel relation.Le (Var 4 sort.Int) (Number (pos 1000))) ∷ []); locals = ((name_n0, (Of unary.Vi (Var 0 sort.Int))) ∷ (name_s1, (Var 1 sort.Val)) ∷ (name_n2, (Of unary.Vi (Var 4 sort.Int))) ∷ []); items = ((Data (Number (pos 64)) (Var 1 sort.Val) (Of2 binary.Cons (Of unary.Vi (Var 2 sort.Int)) (Of2 binary.Cons (Var 3 sort.Val) (Of2 binary.Cons (Of unary.Vi (Number (pos 3))) Nil)))) ∷ []) }); post = (record { opened = []; facts = ((Rel relation.Eq (Var 5 sort.Val) (Of unary.Vi (Number (pos 0)))) ∷ []); locals = []; items = ((Data (Number (pos 64)) (Var 1 sort.Val) (Of2 binary.Cons (Of unary.Vi (Number (pos 2))) (Of2 binary.Cons (Var 3 sort.Val) (Of2 binary.Cons (Of unary.Vi (Number (pos 3))) Nil)))) ∷ []) }) }) ∷ (record { is_void = false; name = name_main; params = ([]); vars = []; pre = (record { opened = []; facts = ([]); locals = []; items = ([]) }); post = (record { opened = []; facts = ((Rel relation.Eq (Var 0 sort.Val) (Of unary.Vi (Number (pos 0)))) ∷ []); locals = []; items = ([]) }) }) ∷ []) }) (record { is_void = false; name = name_f; params = (name_n0 ∷ name_s1 ∷ name_n2 ∷ []); vars = ((name_a0, sort.Int) ∷ (name_w1, sort.Val) ∷ (name_h1, sort.Int) ∷ (name_q1, sort.Val) ∷ (name_a2, sort.Int) ∷ []); pre = (record { opened = []; facts = ((Rel relation.Le (Number (pos 0)) (Var 0 sort.Int)) ∷ (Rel relation.Le (Var 0 sort.Int) (Number (pos 100))) ∷ (Rel relation.Le (Number (pos 0)) (Var 2 sort.Int)) ∷ (Rel relation.Le (Var 2 sort.Int) (Number (pos 20))) ∷ (Rel relation.Le (Number (pos 0)) (Var 4 sort.Int)) ∷ (Rel relation.Le (Var 4 sort.Int) (Number (pos 1000))) ∷ []); locals = ((name_n0, (Of unary.Vi (Var 0 sort.Int))) ∷ (name_s1, (Var 1 sort.Val)) ∷ (name_n2, (Of unary.Vi (Var 4 sort.Int))) ∷ []); items = ((Data (Number (pos 64)) (Var 1 sort.Val) (Of2 binary.Cons (Of unary.Vi (Var 2 sort.Int)) (Of2 binary.Cons (Var 3 sort.Val) (Of2 binary.Cons (Of unary.Vi (Number (pos 3))) Nil)))) ∷ []) }); post = (record { opened = []; facts = ((Rel relation.Eq (Var 5 sort.Val) (Of unary.Vi (Number (pos 0)))) ∷ []); locals = []; items = ((Data (Number (pos 64)) (Var 1 sort.Val) (Of2 binary.Cons (Of unary.Vi (Number (pos 2))) (Of2 binary.Cons (Var 3 sort.Val) (Of2 binary.Cons (Of unary.Vi (Number (pos 3))) Nil)))) ∷ []) }) }) (record { temps = (name_n0 ∷ name_s1 ∷ name_n2 ∷ name_s ∷ name_t ∷ name_i ∷ name_x1 ∷ name_d0 ∷ name_p1 ∷ name_q1 ∷ []); body = (c.Then (c.Set 3 (c.Const 1)) (c.Then (c.Set 4 (c.Const 3)) (c.Then (c.Set 3 (c.Temp 2)) (c.Then (c.Set 7 (c.Binary two.Add kind.Signed (c.Temp 2) (c.Binary two.Sub kind.Signed (c.Const 3) (c.Const 1)))) (c.Then (c.Store (root.Temp 1) (c.Offset 0 c.Here) (c.Const 2)) (c.Then (c.Set 4 (c.Binary two.Add kind.Signed (c.Binary two.Sub kind.Signed (c.Const 3) (c.Const 1)) (c.Const 1))) (c.Then (c.Return (Some (c.Const 0))) c.End))))))) }) (s.Then 1 (s.Set ([]) ([])) s.NoBlock (s.Then 2 (s.Set ([]) ([])) s.NoBlock (s.Then 3 (s.Set ([]) ([])) s.NoBlock (s.Then 4 (s.Set ([]) ((record { lines = ((line.Comb (((pos 1), 4) ∷ ((pos 1), 6) ∷ [])) ∷ []) }) ∷ (record { lines = ((line.Comb (((pos 1), 5) ∷ ((pos 1), 6) ∷ [])) ∷ []) }) ∷ (record { lines = ((line.Comb (((pos 1), 4) ∷ ((pos 63), 6) ∷ [])) ∷ []) }) ∷ (record { lines = ((line.Comb (((pos 1), 5) ∷ ((pos 1), 6) ∷ [])) ∷ []) }) ∷ [])) s.NoBlock (s.Then 5 (s.Store 0 ([]) ([])) s.NoBlock (s.Then 6 (s.Naming name_k1 (Named name_w1)) s.NoBlock (s.Then 7 (s.Set ([]) ([])) s.NoBlock (s.Then 8 (s.Return ([]) ([]) ([])) s.NoBlock s.End)))))))) ≡ (RefusedAt 4 2 3)
unfolding computing
random_990 = refl

random_991 : body_verdict (record { predicates = ([]); specs = ((record { is_void = false; name = name_f; params = (name_n0 ∷ name_s1 ∷ name_n2 ∷ []); vars = ((name_a0, sort.Int) ∷ (name_w1, sort.Val) ∷ (name_h1, sort.Int) ∷ (name_q1, sort.Val) ∷ (name_a2, sort.Int) ∷ []); pre = (record { opened = []; facts = ((Rel relation.Le (Number (pos 0)) (Var 0 sort.Int)) ∷ (Rel relation.Le (Var 0 sort.Int) (Number (pos 100))) ∷ (Rel relation.Le (Number (pos 0)) (Var 2 sort.Int)) ∷ (Rel relation.Le (Var 2 sort.Int) (Number (pos 20))) ∷ (Rel relation.Le (Number (pos 0)) (Var 4 sort.Int)) ∷ (Rel relation.Le (Var 4 sort.Int) (Number (pos 1000))) ∷ []); locals = ((name_n0, (Of unary.Vi (Var 0 sort.Int))) ∷ (name_s1, (Var 1 sort.Val)) ∷ (name_n2, (Of unary.Vi (Var 4 sort.Int))) ∷ []); items = ((Data (Number (pos 64)) (Var 1 sort.Val) (Of2 binary.Cons (Of unary.Vi (Var 2 sort.Int)) (Of2 binary.Cons (Var 3 sort.Val) (Of2 binary.Cons (Of unary.Vi (Number (pos 3))) Nil)))) ∷ []) }); post = (record { opened = []; facts = ((Rel relation.Eq (Var 5 sort.Val) (Of unary.Vi (Number (pos 0)))) ∷ []); locals = []; items = ((Data (Number (pos 64)) (Var 1 sort.Val) (Of2 binary.Cons (Of unary.Vi (Number (pos 1))) (Of2 binary.Cons (Var 3 sort.Val) (Of2 binary.Cons (Of unary.Vi (Number (pos 3))) Nil)))) ∷ []) }) }) ∷ (record { is_void = false; name = name_main; params = ([]); vars = []; pre = (record { opened = []; facts = ([]); locals = []; items = ([]) }); post = (record { opened = []; facts = ((Rel relation.Eq (Var 0 sort.Val) (Of unary.Vi (Number (pos 0)))) ∷ []); locals = []; items = ([]) }) }) ∷ []) }) (record { is_void = false; name = name_f; params = (name_n0 ∷ name_s1 ∷ name_n2 ∷ []); vars = ((name_a0, sort.Int) ∷ (name_w1, sort.Val) ∷ (name_h1, sort.Int) ∷ (name_q1, sort.Val) ∷ (name_a2, sort.Int) ∷ []); pre = (record { opened = []; facts = ((Rel relation.Le (Number (pos 0)) (Var 0 sort.Int)) ∷ (Rel relation.Le (Var 0 sort.Int) (Number (pos 100))) ∷ (Rel relation.Le (Number (pos 0)) (Var 2 sort.Int)) ∷ (Rel relation.Le (Var 2 sort.Int) (Number (pos 20))) ∷ (Rel relation.Le (Number (pos 0)) (Var 4 sort.Int)) ∷ (Rel relation.Le (Var 4 sort.Int) (Number (pos 1000))) ∷ []); locals = ((name_n0, (Of unary.Vi (Var 0 sort.Int))) ∷ (name_s1, (Var 1 sort.Val)) ∷ (name_n2, (Of unary.Vi (Var 4 sort.Int))) ∷ []); items = ((Data (Number (pos 64)) (Var 1 sort.Val) (Of2 binary.Cons (Of unary.Vi (Var 2 sort.Int)) (Of2 binary.Cons (Var 3 sort.Val) (Of2 binary.Cons (Of unary.Vi (Number (pos 3))) Nil)))) ∷ []) }); post = (record { opened = []; facts = ((Rel relation.Eq (Var 5 sort.Val) (Of unary.Vi (Number (pos 0)))) ∷ []); locals = []; items = ((Data (Number (pos 64)) (Var 1 sort.Val) (Of2 binary.Cons (Of unary.Vi (Number (pos 1))) (Of2 binary.Cons (Var 3 sort.Val) (Of2 binary.Cons (Of unary.Vi (Number (pos 3))) Nil)))) ∷ []) }) }) (record { temps = (name_n0 ∷ name_s1 ∷ name_n2 ∷ name_s ∷ name_t ∷ name_i ∷ name_x1 ∷ name_d0 ∷ name_p1 ∷ name_q1 ∷ []); body = (c.Then (c.Set 3 (c.Const 1)) (c.Then (c.Set 4 (c.Const 3)) (c.Then (c.Set 3 (c.Temp 2)) (c.Then (c.Set 7 (c.Binary two.Add kind.Signed (c.Temp 2) (c.Binary two.Sub kind.Signed (c.Const 3) (c.Const 1)))) (c.Then (c.Store (root.Temp 1) (c.Offset 0 c.Here) (c.Const 2)) (c.Then (c.Set 4 (c.Binary two.Add kind.Signed (c.Binary two.Sub kind.Signed (c.Const 3) (c.Const 1)) (c.Const 1))) (c.Then (c.Return (Some (c.Const 0))) c.End))))))) }) (s.Then 1 (s.Set ([]) ([])) s.NoBlock (s.Then 2 (s.Set ([]) ([])) s.NoBlock (s.Then 3 (s.Set ([]) ([])) s.NoBlock (s.Then 4 (s.Set ([]) ((record { lines = ((line.Comb (((pos 1), 4) ∷ ((pos 1), 6) ∷ [])) ∷ []) }) ∷ (record { lines = ((line.Comb (((pos 1), 5) ∷ ((pos 1), 6) ∷ [])) ∷ []) }) ∷ (record { lines = ((line.Comb (((pos 1), 4) ∷ ((pos 1), 6) ∷ [])) ∷ []) }) ∷ (record { lines = ((line.Comb (((pos 1), 5) ∷ ((pos 1), 6) ∷ [])) ∷ []) }) ∷ [])) s.NoBlock (s.Then 5 (s.Store 0 ([]) ([])) s.NoBlock (s.Then 6 (s.Naming name_k1 (Named name_w1)) s.NoBlock (s.Then 7 (s.Set ([]) ([])) s.NoBlock (s.Then 8 (s.Return ([]) ([]) ([])) s.NoBlock s.End)))))))) ≡ (RefusedAt 8 9 5)
unfolding computing
random_991 = refl

random_992 : body_verdict (record { predicates = ([]); specs = ((record { is_void = false; name = name_f; params = (name_n0 ∷ name_s1 ∷ name_n2 ∷ []); vars = ((name_a0, sort.Int) ∷ (name_w1, sort.Val) ∷ (name_h1, sort.Int) ∷ (name_q1, sort.Val) ∷ (name_a2, sort.Int) ∷ []); pre = (record { opened = []; facts = ((Rel relation.Le (Number (pos 0)) (Var 0 sort.Int)) ∷ (Rel relation.Le (Var 0 sort.Int) (Number (pos 100))) ∷ (Rel relation.Le (Number (pos 0)) (Var 2 sort.Int)) ∷ (Rel relation.Le (Var 2 sort.Int) (Number (pos 20))) ∷ (Rel relation.Le (Number (pos 0)) (Var 4 sort.Int)) ∷ (Rel relation.Le (Var 4 sort.Int) (Number (pos 1000))) ∷ []); locals = ((name_n0, (Of unary.Vi (Var 0 sort.Int))) ∷ (name_s1, (Var 1 sort.Val)) ∷ (name_n2, (Of unary.Vi (Var 4 sort.Int))) ∷ []); items = ((Data (Number (pos 64)) (Var 1 sort.Val) (Of2 binary.Cons (Of unary.Vi (Var 2 sort.Int)) (Of2 binary.Cons (Var 3 sort.Val) (Of2 binary.Cons (Of unary.Vi (Number (pos 3))) Nil)))) ∷ []) }); post = (record { opened = []; facts = ((Rel relation.Eq (Var 5 sort.Val) (Of unary.Vi (Number (pos 0)))) ∷ []); locals = []; items = ((Data (Number (pos 64)) (Var 1 sort.Val) (Of2 binary.Cons (Of unary.Vi (Number (pos 1))) (Of2 binary.Cons (Var 3 sort.Val) (Of2 binary.Cons (Of unary.Vi (Number (pos 3))) Nil)))) ∷ []) }) }) ∷ (record { is_void = false; name = name_main; params = ([]); vars = []; pre = (record { opened = []; facts = ([]); locals = []; items = ([]) }); post = (record { opened = []; facts = ((Rel relation.Eq (Var 0 sort.Val) (Of unary.Vi (Number (pos 0)))) ∷ []); locals = []; items = ([]) }) }) ∷ []) }) (record { is_void = false; name = name_main; params = ([]); vars = []; pre = (record { opened = []; facts = ([]); locals = []; items = ([]) }); post = (record { opened = []; facts = ((Rel relation.Eq (Var 0 sort.Val) (Of unary.Vi (Number (pos 0)))) ∷ []); locals = []; items = ([]) }) }) (record { temps = ([]); body = (c.Then (c.Return (Some (c.Const 0))) c.End) }) (s.Then 1 (s.Return ([]) ([]) ([])) s.NoBlock s.End) ≡ Accepted
unfolding computing
random_992 = refl

random_993 : body_verdict (record { predicates = ([]); specs = ((record { is_void = false; name = name_f; params = (name_n0 ∷ name_s1 ∷ name_n2 ∷ []); vars = ((name_a0, sort.Int) ∷ (name_w1, sort.Val) ∷ (name_h1, sort.Int) ∷ (name_q1, sort.Val) ∷ (name_a2, sort.Int) ∷ []); pre = (record { opened = []; facts = ((Rel relation.Le (Number (pos 0)) (Var 0 sort.Int)) ∷ (Rel relation.Le (Var 0 sort.Int) (Number (pos 100))) ∷ (Rel relation.Le (Number (pos 0)) (Var 2 sort.Int)) ∷ (Rel relation.Le (Var 2 sort.Int) (Number (pos 20))) ∷ (Rel relation.Le (Number (pos 0)) (Var 4 sort.Int)) ∷ (Rel relation.Le (Var 4 sort.Int) (Number (pos 1000))) ∷ []); locals = ((name_n0, (Of unary.Vi (Var 0 sort.Int))) ∷ (name_s1, (Var 1 sort.Val)) ∷ (name_n2, (Of unary.Vi (Var 4 sort.Int))) ∷ []); items = ((Data (Number (pos 64)) (Var 1 sort.Val) (Of2 binary.Cons (Of unary.Vi (Var 2 sort.Int)) (Of2 binary.Cons (Var 3 sort.Val) (Of2 binary.Cons (Of unary.Vi (Number (pos 3))) Nil)))) ∷ []) }); post = (record { opened = []; facts = ((Rel relation.Eq (Var 5 sort.Val) (Of unary.Vi (Number (pos 0)))) ∷ []); locals = []; items = ((Data (Number (pos 64)) (Var 1 sort.Val) (Of2 binary.Cons (Of unary.Vi (Number (pos 2))) (Of2 binary.Cons (Var 3 sort.Val) (Of2 binary.Cons (Of unary.Vi (Number (pos 3))) Nil)))) ∷ []) }) }) ∷ (record { is_void = false; name = name_main; params = ([]); vars = []; pre = (record { opened = []; facts = ([]); locals = []; items = ([]) }); post = (record { opened = []; facts = ((Rel relation.Eq (Var 0 sort.Val) (Of unary.Vi (Number (pos 0)))) ∷ []); locals = []; items = ([]) }) }) ∷ []) }) (record { is_void = false; name = name_f; params = (name_n0 ∷ name_s1 ∷ name_n2 ∷ []); vars = ((name_a0, sort.Int) ∷ (name_w1, sort.Val) ∷ (name_h1, sort.Int) ∷ (name_q1, sort.Val) ∷ (name_a2, sort.Int) ∷ []); pre = (record { opened = []; facts = ((Rel relation.Le (Number (pos 0)) (Var 0 sort.Int)) ∷ (Rel relation.Le (Var 0 sort.Int) (Number (pos 100))) ∷ (Rel relation.Le (Number (pos 0)) (Var 2 sort.Int)) ∷ (Rel relation.Le (Var 2 sort.Int) (Number (pos 20))) ∷ (Rel relation.Le (Number (pos 0)) (Var 4 sort.Int)) ∷ (Rel relation.Le (Var 4 sort.Int) (Number (pos 1000))) ∷ []); locals = ((name_n0, (Of unary.Vi (Var 0 sort.Int))) ∷ (name_s1, (Var 1 sort.Val)) ∷ (name_n2, (Of unary.Vi (Var 4 sort.Int))) ∷ []); items = ((Data (Number (pos 64)) (Var 1 sort.Val) (Of2 binary.Cons (Of unary.Vi (Var 2 sort.Int)) (Of2 binary.Cons (Var 3 sort.Val) (Of2 binary.Cons (Of unary.Vi (Number (pos 3))) Nil)))) ∷ []) }); post = (record { opened = []; facts = ((Rel relation.Eq (Var 5 sort.Val) (Of unary.Vi (Number (pos 0)))) ∷ []); locals = []; items = ((Data (Number (pos 64)) (Var 1 sort.Val) (Of2 binary.Cons (Of unary.Vi (Number (pos 2))) (Of2 binary.Cons (Var 3 sort.Val) (Of2 binary.Cons (Of unary.Vi (Number (pos 3))) Nil)))) ∷ []) }) }) (record { temps = (name_n0 ∷ name_s1 ∷ name_n2 ∷ name_s ∷ name_t ∷ name_i ∷ name_x1 ∷ name_d0 ∷ name_p1 ∷ name_q1 ∷ []); body = (c.Then (c.Set 3 (c.Const 1)) (c.Then (c.Set 4 (c.Const 3)) (c.Then (c.Set 3 (c.Temp 2)) (c.Then (c.Set 7 (c.Binary two.Add kind.Signed (c.Temp 2) (c.Binary two.Sub kind.Signed (c.Const 3) (c.Const 1)))) (c.Then (c.Store (root.Temp 1) (c.Offset 0 c.Here) (c.Const 2)) (c.Then (c.Set 4 (c.Binary two.Add kind.Signed (c.Binary two.Sub kind.Signed (c.Const 3) (c.Const 1)) (c.Const 1))) (c.Then (c.Return (Some (c.Const 0))) c.End))))))) }) (s.Then 1 (s.Set ([]) ([])) s.NoBlock (s.Then 2 (s.Set ([]) ([])) s.NoBlock (s.Then 3 (s.Set ([]) ([])) s.NoBlock (s.Then 4 (s.Naming name_a0 (Number (pos 1))) s.NoBlock (s.Then 5 (s.Store 0 ([]) ([])) s.NoBlock (s.Then 6 (s.Naming name_k1 (Named name_w1)) s.NoBlock (s.Then 7 (s.Set ([]) ([])) s.NoBlock (s.Then 8 (s.Return ([]) ([]) ([])) s.NoBlock s.End)))))))) ≡ (RefusedAt 4 38 6)
unfolding computing
random_993 = refl

random_994 : body_verdict (record { predicates = ([]); specs = ((record { is_void = false; name = name_f; params = (name_n0 ∷ name_s1 ∷ name_n2 ∷ []); vars = ((name_a0, sort.Int) ∷ (name_w1, sort.Val) ∷ (name_h1, sort.Int) ∷ (name_q1, sort.Val) ∷ (name_a2, sort.Int) ∷ []); pre = (record { opened = []; facts = ((Rel relation.Le (Number (pos 0)) (Var 0 sort.Int)) ∷ (Rel relation.Le (Var 0 sort.Int) (Number (pos 100))) ∷ (Rel relation.Le (Number (pos 0)) (Var 2 sort.Int)) ∷ (Rel relation.Le (Var 2 sort.Int) (Number (pos 20))) ∷ (Rel relation.Le (Number (pos 0)) (Var 4 sort.Int)) ∷ (Rel relation.Le (Var 4 sort.Int) (Number (pos 1000))) ∷ []); locals = ((name_n0, (Of unary.Vi (Var 0 sort.Int))) ∷ (name_s1, (Var 1 sort.Val)) ∷ (name_n2, (Of unary.Vi (Var 4 sort.Int))) ∷ []); items = ((Data (Number (pos 64)) (Var 1 sort.Val) (Of2 binary.Cons (Of unary.Vi (Var 2 sort.Int)) (Of2 binary.Cons (Var 3 sort.Val) (Of2 binary.Cons (Of unary.Vi (Number (pos 3))) Nil)))) ∷ []) }); post = (record { opened = []; facts = ((Rel relation.Eq (Var 5 sort.Val) (Of unary.Vi (Number (pos 0)))) ∷ []); locals = []; items = ((Data (Number (pos 64)) (Var 1 sort.Val) (Of2 binary.Cons (Of unary.Vi (Number (pos 2))) (Of2 binary.Cons (Var 3 sort.Val) (Of2 binary.Cons (Of unary.Vi (Number (pos 3))) Nil)))) ∷ []) }) }) ∷ (record { is_void = false; name = name_main; params = ([]); vars = []; pre = (record { opened = []; facts = ([]); locals = []; items = ([]) }); post = (record { opened = []; facts = ((Rel relation.Eq (Var 0 sort.Val) (Of unary.Vi (Number (pos 0)))) ∷ []); locals = []; items = ([]) }) }) ∷ []) }) (record { is_void = false; name = name_main; params = ([]); vars = []; pre = (record { opened = []; facts = ([]); locals = []; items = ([]) }); post = (record { opened = []; facts = ((Rel relation.Eq (Var 0 sort.Val) (Of unary.Vi (Number (pos 0)))) ∷ []); locals = []; items = ([]) }) }) (record { temps = ([]); body = (c.Then (c.Return (Some (c.Const 0))) c.End) }) (s.Then 1 (s.Return ([]) ([]) ([])) s.NoBlock (s.Then 2 (s.Return ([]) ([]) ([])) s.NoBlock s.End)) ≡ (RefusedAt 2 0 11)
unfolding computing
random_994 = refl

random_995 : body_verdict (record { predicates = ([]); specs = ((record { is_void = false; name = name_f; params = (name_n0 ∷ name_s1 ∷ name_n2 ∷ []); vars = ((name_a0, sort.Int) ∷ (name_w1, sort.Val) ∷ (name_h1, sort.Int) ∷ (name_q1, sort.Val) ∷ (name_a2, sort.Int) ∷ []); pre = (record { opened = []; facts = ((Rel relation.Le (Number (pos 0)) (Var 0 sort.Int)) ∷ (Rel relation.Le (Var 0 sort.Int) (Number (pos 100))) ∷ (Rel relation.Le (Number (pos 0)) (Var 2 sort.Int)) ∷ (Rel relation.Le (Var 2 sort.Int) (Number (pos 20))) ∷ (Rel relation.Le (Number (pos 0)) (Var 4 sort.Int)) ∷ (Rel relation.Le (Var 4 sort.Int) (Number (pos 1000))) ∷ []); locals = ((name_n0, (Of unary.Vi (Var 0 sort.Int))) ∷ (name_s1, (Var 1 sort.Val)) ∷ (name_n2, (Of unary.Vi (Var 4 sort.Int))) ∷ []); items = ((Data (Number (pos 64)) (Var 1 sort.Val) (Of2 binary.Cons (Of unary.Vi (Var 2 sort.Int)) (Of2 binary.Cons (Var 3 sort.Val) (Of2 binary.Cons (Of unary.Vi (Number (pos 3))) Nil)))) ∷ []) }); post = (record { opened = []; facts = ((Rel relation.Eq (Var 5 sort.Val) (Of unary.Vi (Number (pos 0)))) ∷ []); locals = []; items = ((Data (Number (pos 64)) (Var 1 sort.Val) (Of2 binary.Cons (Of unary.Vi (Number (pos 2))) (Of2 binary.Cons (Var 3 sort.Val) (Of2 binary.Cons (Of unary.Vi (Number (pos 3))) Nil)))) ∷ []) }) }) ∷ (record { is_void = false; name = name_main; params = ([]); vars = []; pre = (record { opened = []; facts = ([]); locals = []; items = ([]) }); post = (record { opened = []; facts = ((Rel relation.Eq (Var 0 sort.Val) (Of unary.Vi (Number (pos 0)))) ∷ []); locals = []; items = ([]) }) }) ∷ []) }) (record { is_void = false; name = name_f; params = (name_n0 ∷ name_s1 ∷ name_n2 ∷ []); vars = ((name_a0, sort.Int) ∷ (name_w1, sort.Val) ∷ (name_h1, sort.Int) ∷ (name_q1, sort.Val) ∷ (name_a2, sort.Int) ∷ []); pre = (record { opened = []; facts = ((Rel relation.Le (Number (pos 0)) (Var 0 sort.Int)) ∷ (Rel relation.Le (Var 0 sort.Int) (Number (pos 100))) ∷ (Rel relation.Le (Number (pos 0)) (Var 2 sort.Int)) ∷ (Rel relation.Le (Var 2 sort.Int) (Number (pos 20))) ∷ (Rel relation.Le (Number (pos 0)) (Var 4 sort.Int)) ∷ (Rel relation.Le (Var 4 sort.Int) (Number (pos 1000))) ∷ []); locals = ((name_n0, (Of unary.Vi (Var 0 sort.Int))) ∷ (name_s1, (Var 1 sort.Val)) ∷ (name_n2, (Of unary.Vi (Var 4 sort.Int))) ∷ []); items = ((Data (Number (pos 64)) (Var 1 sort.Val) (Of2 binary.Cons (Of unary.Vi (Var 2 sort.Int)) (Of2 binary.Cons (Var 3 sort.Val) (Of2 binary.Cons (Of unary.Vi (Number (pos 3))) Nil)))) ∷ []) }); post = (record { opened = []; facts = ((Rel relation.Eq (Var 5 sort.Val) (Of unary.Vi (Number (pos 0)))) ∷ []); locals = []; items = ((Data (Number (pos 64)) (Var 1 sort.Val) (Of2 binary.Cons (Of unary.Vi (Number (pos 2))) (Of2 binary.Cons (Var 3 sort.Val) (Of2 binary.Cons (Of unary.Vi (Number (pos 3))) Nil)))) ∷ []) }) }) (record { temps = (name_n0 ∷ name_s1 ∷ name_n2 ∷ name_s ∷ name_t ∷ name_i ∷ name_x1 ∷ name_d0 ∷ name_p1 ∷ name_q1 ∷ []); body = (c.Then (c.Set 3 (c.Const 1)) (c.Then (c.Set 4 (c.Const 3)) (c.Then (c.Set 3 (c.Temp 2)) (c.Then (c.Set 7 (c.Binary two.Add kind.Signed (c.Temp 2) (c.Binary two.Sub kind.Signed (c.Const 3) (c.Const 1)))) (c.Then (c.Store (root.Temp 1) (c.Offset 0 c.Here) (c.Const 2)) (c.Then (c.Set 4 (c.Binary two.Add kind.Signed (c.Binary two.Sub kind.Signed (c.Const 3) (c.Const 1)) (c.Const 1))) (c.Then (c.Return (Some (c.Const 0))) c.End))))))) }) (s.Then 1 (s.Set ([]) ([])) s.NoBlock (s.Then 2 (s.Set ([]) ([])) s.NoBlock (s.Then 3 (s.Set ([]) ((record { lines = ((line.Comb (((pos 1), 4) ∷ ((pos 1), 6) ∷ [])) ∷ []) }) ∷ (record { lines = ((line.Comb (((pos 1), 5) ∷ ((pos 1), 6) ∷ [])) ∷ []) }) ∷ (record { lines = ((line.Comb (((pos 1), 4) ∷ ((pos 1), 6) ∷ [])) ∷ []) }) ∷ (record { lines = ((line.Comb (((pos 1), 5) ∷ ((pos 1), 6) ∷ [])) ∷ []) }) ∷ [])) s.NoBlock (s.Then 4 (s.Store 0 ([]) ([])) s.NoBlock (s.Then 5 (s.Naming name_w1 (Named name_w1)) s.NoBlock (s.Then 6 (s.Set ([]) ([])) s.NoBlock (s.Then 7 (s.Return ([]) ([]) ([])) s.NoBlock s.End))))))) ≡ (RefusedAt 3 2 3)
unfolding computing
random_995 = refl

random_996 : body_verdict (record { predicates = ((record { name = name_E; args = ([]); cases = ((record { opened = []; facts = ([]); locals = []; items = ([]) }) ∷ []) }) ∷ []); specs = ((record { is_void = false; name = name_main; params = ([]); vars = []; pre = (record { opened = []; facts = ([]); locals = []; items = ((Data (Number (pos 64)) (Global name_arr) (Of2 binary.Cons (Of unary.Vi (Number (pos 1))) (Of2 binary.Cons (Of unary.Vi (Number (pos 2))) (Of2 binary.Cons (Of unary.Vi (Number (pos 0))) (Of2 binary.Cons (Of unary.Vi (Number (pos 0))) Nil))))) ∷ []) }); post = (record { opened = (sort.List ∷ []); facts = ((IsInt (Var 0 sort.Val)) ∷ []); locals = []; items = ((Data (Number (pos 64)) (Global name_arr) (Var 1 sort.List)) ∷ []) }) }) ∷ []) }) (record { is_void = false; name = name_main; params = ([]); vars = []; pre = (record { opened = []; facts = ([]); locals = []; items = ((Data (Number (pos 64)) (Global name_arr) (Of2 binary.Cons (Of unary.Vi (Number (pos 1))) (Of2 binary.Cons (Of unary.Vi (Number (pos 2))) (Of2 binary.Cons (Of unary.Vi (Number (pos 0))) (Of2 binary.Cons (Of unary.Vi (Number (pos 0))) Nil))))) ∷ []) }); post = (record { opened = (sort.List ∷ []); facts = ((IsInt (Var 0 sort.Val)) ∷ []); locals = []; items = ((Data (Number (pos 64)) (Global name_arr) (Var 1 sort.List)) ∷ []) }) }) (record { temps = (name_s ∷ name_t ∷ name_i ∷ name_x1 ∷ name_d0 ∷ name_p1 ∷ name_q1 ∷ []); body = (c.Then (c.Set 0 (c.Const 1)) (c.Then (c.Set 1 (c.Const 2)) (c.Then (c.Set 4 (c.Binary two.Add kind.Signed (c.Const 2) (c.Const 1))) (c.Then (c.Set 0 (c.Temp 1)) (c.Then (c.Set 2 (c.Const 0)) (c.Then (c.Loop (c.Then (c.If (c.Nonzero kind.Signed (c.Binary two.Lt kind.Signed (c.Temp 2) (c.Const 10))) (c.Then (c.Set 4 (c.Binary two.Add kind.Signed (c.Temp 2) (c.Const 1))) (c.Then (c.Set 2 (c.Binary two.Add kind.Signed (c.Temp 2) (c.Const 1))) c.End)) (c.Then c.Break c.End)) c.End)) (c.Then (c.Load 1 (root.Global name_arr 4) (c.Index kind.Signed (c.Const 3) c.Here)) (c.Then (c.Return (Some (c.Temp 0))) c.End)))))))) }) (s.Then 1 (s.Set ([]) ([])) s.NoBlock (s.Then 2 (s.Set ([]) ([])) s.NoBlock (s.Then 3 (s.Set ([]) ([])) s.NoBlock (s.Then 4 (s.Set ([]) ([])) s.NoBlock (s.Then 5 (s.Set ([]) ([])) s.NoBlock (s.Then 6 (s.While (record { opened = (sort.Int ∷ []); facts = ((Rel relation.Le (Number (pos 0)) (Var 0 sort.Int)) ∷ (Rel relation.Le (Var 0 sort.Int) (Number (pos 10))) ∷ []); locals = ((name_s, (Of unary.Vi (Number (pos 2)))) ∷ (name_t, (Of unary.Vi (Number (pos 2)))) ∷ (name_i, (Of unary.Vi (Var 0 sort.Int))) ∷ []); items = ((Data (Number (pos 64)) (Global name_arr) (Of2 binary.Cons (Of unary.Vi (Number (pos 1))) (Of2 binary.Cons (Of unary.Vi (Number (pos 2))) (Of2 binary.Cons (Of unary.Vi (Number (pos 0))) (Of2 binary.Cons (Of unary.Vi (Number (pos 0))) Nil))))) ∷ []) }) (record { opened = (sort.Int ∷ []); facts = ((Rel relation.Le (Number (pos 0)) (Var 0 sort.Int)) ∷ (Rel relation.Le (Var 0 sort.Int) (Number (pos 10))) ∷ (Rel relation.Le (Number (pos 10)) (Var 0 sort.Int)) ∷ []); locals = ((name_s, (Of unary.Vi (Number (pos 2)))) ∷ (name_t, (Of unary.Vi (Number (pos 2)))) ∷ (name_i, (Of unary.Vi (Var 0 sort.Int))) ∷ []); items = ((Data (Number (pos 64)) (Global name_arr) (Of2 binary.Cons (Of unary.Vi (Number (pos 1))) (Of2 binary.Cons (Of unary.Vi (Number (pos 2))) (Of2 binary.Cons (Of unary.Vi (Number (pos 0))) (Of2 binary.Cons (Of unary.Vi (Number (pos 0))) Nil))))) ∷ []) }) (name_k2 ∷ []) ([]) (name_k1 ∷ [])) (s.WithBlock (s.Then 7 (s.Meet ((Number (pos 0)) ∷ []) ([])) s.NoBlock s.End) (s.WithBlock (s.Then 8 (s.If ([]) ((record { lines = ((line.Comb (((pos 1), 0) ∷ ((pos 1), 2) ∷ [])) ∷ []) }) ∷ (record { lines = ((line.Comb (((pos 1), 1) ∷ ((pos 1), 2) ∷ [])) ∷ []) }) ∷ []) ([]) ([])) (s.WithBlock (s.Then 9 (s.Set ([]) ((record { lines = ((line.Comb (((pos 1), 0) ∷ ((pos 1), 3) ∷ [])) ∷ []) }) ∷ (record { lines = ((line.Comb (((pos 1), 1) ∷ ((pos 1), 3) ∷ [])) ∷ []) }) ∷ (record { lines = ((line.Comb (((pos 1), 0) ∷ ((pos 1), 3) ∷ [])) ∷ []) }) ∷ (record { lines = ((line.Comb (((pos 1), 1) ∷ ((pos 1), 3) ∷ [])) ∷ []) }) ∷ [])) s.NoBlock (s.Then 10 (s.Set ([]) ((record { lines = ((line.Comb (((pos 1), 0) ∷ ((pos 1), 3) ∷ [])) ∷ []) }) ∷ (record { lines = ((line.Comb (((pos 1), 1) ∷ ((pos 1), 3) ∷ [])) ∷ []) }) ∷ (record { lines = ((line.Comb (((pos 1), 0) ∷ ((pos 1), 3) ∷ [])) ∷ []) }) ∷ (record { lines = ((line.Comb (((pos 1), 1) ∷ ((pos 1), 3) ∷ [])) ∷ []) }) ∷ [])) s.NoBlock (s.Then 11 (s.Fall ((Of2 binary.Add (Named name_k1) (Number (pos 1))) ∷ []) ((record { lines = ((line.Comb (((pos 1), 0) ∷ ((pos 1), 3) ∷ [])) ∷ []) }) ∷ [])) s.NoBlock s.End))) (s.WithBlock (s.Then 12 (s.Break ((Named name_k1) ∷ []) ([])) s.NoBlock s.End) s.NoBlock)) s.End) s.NoBlock)) (s.Then 13 (s.Load 0 ([]) ([])) s.NoBlock (s.Then 14 (s.Return ((Of2 binary.Cons (Of unary.Vi (Number (pos 1))) (Of2 binary.Cons (Of unary.Vi (Number (pos 2))) (Of2 binary.Cons (Of unary.Vi (Number (pos 0))) (Of2 binary.Cons (Of unary.Vi (Number (pos 0))) Nil)))) ∷ []) ([]) ([])) s.NoBlock s.End)))))))) ≡ Accepted
unfolding computing
random_996 = refl

random_997 : body_verdict (record { predicates = ((record { name = name_E; args = ([]); cases = ((record { opened = []; facts = ([]); locals = []; items = ([]) }) ∷ []) }) ∷ []); specs = ((record { is_void = false; name = name_main; params = ([]); vars = []; pre = (record { opened = []; facts = ([]); locals = []; items = ((Data (Number (pos 64)) (Global name_arr) (Of2 binary.Cons (Of unary.Vi (Number (pos 1))) (Of2 binary.Cons (Of unary.Vi (Number (pos 2))) (Of2 binary.Cons (Of unary.Vi (Number (pos 0))) (Of2 binary.Cons (Of unary.Vi (Number (pos 0))) Nil))))) ∷ []) }); post = (record { opened = (sort.List ∷ []); facts = ((IsInt (Var 0 sort.Val)) ∷ []); locals = []; items = ((Data (Number (pos 64)) (Global name_arr) (Var 1 sort.List)) ∷ []) }) }) ∷ []) }) (record { is_void = false; name = name_main; params = ([]); vars = []; pre = (record { opened = []; facts = ([]); locals = []; items = ((Data (Number (pos 64)) (Global name_arr) (Of2 binary.Cons (Of unary.Vi (Number (pos 1))) (Of2 binary.Cons (Of unary.Vi (Number (pos 2))) (Of2 binary.Cons (Of unary.Vi (Number (pos 0))) (Of2 binary.Cons (Of unary.Vi (Number (pos 0))) Nil))))) ∷ []) }); post = (record { opened = (sort.List ∷ []); facts = ((IsInt (Var 0 sort.Val)) ∷ []); locals = []; items = ((Data (Number (pos 64)) (Global name_arr) (Var 1 sort.List)) ∷ []) }) }) (record { temps = (name_s ∷ name_t ∷ name_i ∷ name_x1 ∷ name_d0 ∷ name_p1 ∷ name_q1 ∷ []); body = (c.Then (c.Set 0 (c.Const 1)) (c.Then (c.Set 1 (c.Const 2)) (c.Then (c.Set 4 (c.Binary two.Add kind.Signed (c.Const 2) (c.Const 1))) (c.Then (c.Set 0 (c.Temp 1)) (c.Then (c.Set 2 (c.Const 0)) (c.Then (c.Loop (c.Then (c.If (c.Nonzero kind.Signed (c.Binary two.Lt kind.Signed (c.Temp 2) (c.Const 10))) (c.Then (c.Set 4 (c.Binary two.Add kind.Signed (c.Temp 2) (c.Const 1))) (c.Then (c.Set 2 (c.Binary two.Add kind.Signed (c.Temp 2) (c.Const 1))) c.End)) (c.Then c.Break c.End)) c.End)) (c.Then (c.Load 1 (root.Global name_arr 4) (c.Index kind.Signed (c.Const 3) c.Here)) (c.Then (c.Return (Some (c.Temp 0))) c.End)))))))) }) (s.Then 1 (s.Set ([]) ([])) s.NoBlock (s.Then 2 (s.Set ([]) ([])) s.NoBlock (s.Then 3 (s.Set ([]) ([])) s.NoBlock (s.Then 4 (s.Set ([]) ([])) s.NoBlock (s.Then 5 (s.Set ([]) ([])) s.NoBlock (s.Then 6 (s.Unshare 0 1 ([])) s.NoBlock (s.Then 7 (s.While (record { opened = (sort.Int ∷ []); facts = ((Rel relation.Le (Number (pos 0)) (Var 0 sort.Int)) ∷ (Rel relation.Le (Var 0 sort.Int) (Number (pos 10))) ∷ []); locals = ((name_s, (Of unary.Vi (Number (pos 2)))) ∷ (name_t, (Of unary.Vi (Number (pos 2)))) ∷ (name_i, (Of unary.Vi (Var 0 sort.Int))) ∷ []); items = ((Data (Number (pos 64)) (Global name_i) (Of2 binary.Cons (Of unary.Vi (Number (pos 1))) (Of2 binary.Cons (Of unary.Vi (Number (pos 2))) (Of2 binary.Cons (Of unary.Vi (Number (pos 0))) (Of2 binary.Cons (Of unary.Vi (Number (pos 0))) Nil))))) ∷ []) }) (record { opened = (sort.Int ∷ []); facts = ((Rel relation.Le (Number (pos 0)) (Var 0 sort.Int)) ∷ (Rel relation.Le (Var 0 sort.Int) (Number (pos 10))) ∷ (Rel relation.Le (Number (pos 10)) (Var 0 sort.Int)) ∷ []); locals = ((name_s, (Of unary.Vi (Number (pos 2)))) ∷ (name_t, (Of unary.Vi (Number (pos 2)))) ∷ (name_i, (Of unary.Vi (Var 0 sort.Int))) ∷ []); items = ((Data (Number (pos 64)) (Global name_arr) (Of2 binary.Cons (Of unary.Vi (Number (pos 1))) (Of2 binary.Cons (Of unary.Vi (Number (pos 2))) (Of2 binary.Cons (Of unary.Vi (Number (pos 0))) (Of2 binary.Cons (Of unary.Vi (Number (pos 0))) Nil))))) ∷ []) }) (name_k2 ∷ []) ([]) (name_k1 ∷ [])) (s.WithBlock (s.Then 8 (s.Meet ((Number (pos 0)) ∷ []) ([])) s.NoBlock s.End) (s.WithBlock (s.Then 9 (s.If ([]) ((record { lines = ((line.Comb (((pos 1), 0) ∷ ((pos 1), 2) ∷ [])) ∷ []) }) ∷ (record { lines = ((line.Comb (((pos 1), 1) ∷ ((pos 1), 2) ∷ [])) ∷ []) }) ∷ []) ([]) ([])) (s.WithBlock (s.Then 10 (s.Set ([]) ((record { lines = ((line.Comb (((pos 1), 0) ∷ ((pos 1), 3) ∷ [])) ∷ []) }) ∷ (record { lines = ((line.Comb (((pos 1), 1) ∷ ((pos 1), 3) ∷ [])) ∷ []) }) ∷ (record { lines = ((line.Comb (((pos 1), 0) ∷ ((pos 1), 3) ∷ [])) ∷ []) }) ∷ (record { lines = ((line.Comb (((pos 1), 1) ∷ ((pos 1), 3) ∷ [])) ∷ []) }) ∷ [])) s.NoBlock (s.Then 11 (s.Set ([]) ((record { lines = ((line.Comb (((pos 1), 0) ∷ ((pos 1), 3) ∷ [])) ∷ []) }) ∷ (record { lines = ((line.Comb (((pos 1), 1) ∷ ((pos 1), 3) ∷ [])) ∷ []) }) ∷ (record { lines = ((line.Comb (((pos 1), 0) ∷ ((pos 1), 3) ∷ [])) ∷ []) }) ∷ (record { lines = ((line.Comb (((pos 1), 1) ∷ ((pos 1), 3) ∷ [])) ∷ []) }) ∷ [])) s.NoBlock (s.Then 12 (s.Fall ((Of2 binary.Add (Named name_k1) (Number (pos 1))) ∷ []) ((record { lines = ((line.Comb (((pos 1), 0) ∷ ((pos 1), 3) ∷ [])) ∷ []) }) ∷ [])) s.NoBlock s.End))) (s.WithBlock (s.Then 13 (s.Break ((Named name_k1) ∷ []) ([])) s.NoBlock s.End) s.NoBlock)) s.End) s.NoBlock)) (s.Then 14 (s.Load 0 ([]) ([])) s.NoBlock (s.Then 15 (s.Return ((Of2 binary.Cons (Of unary.Vi (Number (pos 1))) (Of2 binary.Cons (Of unary.Vi (Number (pos 2))) (Of2 binary.Cons (Of unary.Vi (Number (pos 0))) (Of2 binary.Cons (Of unary.Vi (Number (pos 0))) Nil)))) ∷ []) ([]) ([])) s.NoBlock s.End))))))))) ≡ (RefusedAt 6 32 1)
unfolding computing
random_997 = refl

random_998 : body_verdict (record { predicates = ((record { name = name_E; args = ([]); cases = ((record { opened = []; facts = ([]); locals = []; items = ([]) }) ∷ []) }) ∷ []); specs = ((record { is_void = false; name = name_main; params = ([]); vars = []; pre = (record { opened = []; facts = ([]); locals = []; items = ((Data (Number (pos 64)) (Global name_arr) (Of2 binary.Cons (Of unary.Vi (Number (pos 1))) (Of2 binary.Cons (Of unary.Vi (Number (pos 2))) (Of2 binary.Cons (Of unary.Vi (Number (pos 0))) (Of2 binary.Cons (Of unary.Vi (Number (pos 0))) Nil))))) ∷ []) }); post = (record { opened = (sort.List ∷ []); facts = ((IsInt (Var 0 sort.Val)) ∷ []); locals = []; items = ((Data (Number (pos 64)) (Global name_arr) (Var 1 sort.List)) ∷ []) }) }) ∷ []) }) (record { is_void = false; name = name_main; params = ([]); vars = []; pre = (record { opened = []; facts = ([]); locals = []; items = ((Data (Number (pos 64)) (Global name_arr) (Of2 binary.Cons (Of unary.Vi (Number (pos 1))) (Of2 binary.Cons (Of unary.Vi (Number (pos 2))) (Of2 binary.Cons (Of unary.Vi (Number (pos 0))) (Of2 binary.Cons (Of unary.Vi (Number (pos 0))) Nil))))) ∷ []) }); post = (record { opened = (sort.List ∷ []); facts = ((IsInt (Var 0 sort.Val)) ∷ []); locals = []; items = ((Data (Number (pos 64)) (Global name_arr) (Var 1 sort.List)) ∷ []) }) }) (record { temps = (name_s ∷ name_t ∷ name_i ∷ name_x1 ∷ name_d0 ∷ name_p1 ∷ name_q1 ∷ []); body = (c.Then (c.Set 0 (c.Const 1)) (c.Then (c.Set 1 (c.Const 2)) (c.Then (c.Set 4 (c.Binary two.Add kind.Signed (c.Const 2) (c.Const 1))) (c.Then (c.Set 0 (c.Temp 1)) (c.Then (c.Set 2 (c.Const 0)) (c.Then (c.Loop (c.Then (c.If (c.Nonzero kind.Signed (c.Binary two.Lt kind.Signed (c.Temp 2) (c.Const 10))) (c.Then (c.Set 4 (c.Binary two.Add kind.Signed (c.Temp 2) (c.Const 1))) (c.Then (c.Set 2 (c.Binary two.Add kind.Signed (c.Temp 2) (c.Const 1))) c.End)) (c.Then c.Break c.End)) c.End)) (c.Then (c.Load 1 (root.Global name_arr 4) (c.Index kind.Signed (c.Const 3) c.Here)) (c.Then (c.Return (Some (c.Temp 0))) c.End)))))))) }) (s.Then 1 (s.Set ([]) ([])) s.NoBlock (s.Then 2 (s.Set ([]) ([])) s.NoBlock (s.Then 3 (s.Set ([]) ([])) s.NoBlock (s.Then 4 (s.Set ([]) ([])) s.NoBlock (s.Then 5 (s.Set ([]) ([])) s.NoBlock (s.Then 6 (s.While (record { opened = (sort.Int ∷ []); facts = ((Rel relation.Le (Number (pos 0)) (Var 0 sort.Int)) ∷ (Rel relation.Le (Var 0 sort.Int) (Number (pos 10))) ∷ []); locals = ((name_s, (Of unary.Vi (Number (pos 2)))) ∷ (name_t, (Of unary.Vi (Number (pos 2)))) ∷ (name_i, (Of unary.Vi (Var 0 sort.Int))) ∷ []); items = ((Data (Number (pos 64)) (Global name_arr) (Of2 binary.Cons (Of unary.Vi (Number (pos 1))) (Of2 binary.Cons (Of unary.Vi (Number (pos 2))) (Of2 binary.Cons (Of unary.Vi (Number (pos 0))) (Of2 binary.Cons (Of unary.Vi (Number (pos 0))) Nil))))) ∷ []) }) (record { opened = (sort.Int ∷ []); facts = ((Rel relation.Le (Number (pos 0)) (Var 0 sort.Int)) ∷ (Rel relation.Le (Var 0 sort.Int) (Number (pos 10))) ∷ (Rel relation.Le (Number (pos 10)) (Var 0 sort.Int)) ∷ []); locals = ((name_s, (Of unary.Vi (Number (pos 2)))) ∷ (name_t, (Of unary.Vi (Number (pos 2)))) ∷ (name_i, (Of unary.Vi (Var 0 sort.Int))) ∷ []); items = ((Data (Number (pos 64)) (Global name_arr) (Of2 binary.Cons (Of unary.Vi (Number (pos 1))) (Of2 binary.Cons (Of unary.Vi (Number (pos 2))) (Of2 binary.Cons (Of unary.Vi (Number (pos 0))) (Of2 binary.Cons (Of unary.Vi (Number (pos 0))) Nil))))) ∷ []) }) (name_k2 ∷ []) ([]) (name_k1 ∷ [])) (s.WithBlock (s.Then 7 (s.Meet ((Number (pos 0)) ∷ []) ([])) s.NoBlock s.End) (s.WithBlock (s.Then 8 (s.If ([]) ((record { lines = ((line.Comb (((pos 1), 0) ∷ ((pos 1), 2) ∷ [])) ∷ []) }) ∷ (record { lines = ((line.Comb (((pos 1), 1) ∷ ((pos 1), 2) ∷ [])) ∷ []) }) ∷ []) ([]) ([])) (s.WithBlock (s.Then 9 (s.Set ([]) ((record { lines = ((line.Comb (((pos 1), 0) ∷ ((pos 1), 3) ∷ [])) ∷ []) }) ∷ (record { lines = ((line.Comb (((pos 1), 1) ∷ ((pos 1), 3) ∷ [])) ∷ []) }) ∷ (record { lines = ((line.Comb (((pos 1), 0) ∷ ((pos 1), 3) ∷ [])) ∷ []) }) ∷ (record { lines = ((line.Comb (((pos 1), 1) ∷ ((pos 1), 3) ∷ [])) ∷ []) }) ∷ [])) s.NoBlock (s.Then 10 (s.Set ([]) ((record { lines = ((line.Comb (((pos 1), 0) ∷ ((pos 1), 3) ∷ [])) ∷ []) }) ∷ (record { lines = ((line.Comb (((pos 1), 1) ∷ ((pos 1), 3) ∷ [])) ∷ []) }) ∷ (record { lines = ((line.Comb (((pos 1), 31) ∷ ((pos 1), 3) ∷ [])) ∷ []) }) ∷ (record { lines = ((line.Comb (((pos 1), 1) ∷ ((pos 1), 3) ∷ [])) ∷ []) }) ∷ [])) s.NoBlock (s.Then 11 (s.Fall ((Of2 binary.Add (Named name_k1) (Number (pos 1))) ∷ []) ((record { lines = ((line.Comb (((pos 1), 0) ∷ ((pos 1), 3) ∷ [])) ∷ []) }) ∷ [])) s.NoBlock s.End))) (s.WithBlock (s.Then 12 (s.Break ((Named name_k1) ∷ []) ([])) s.NoBlock s.End) s.NoBlock)) s.End) s.NoBlock)) (s.Then 13 (s.Load 0 ([]) ([])) s.NoBlock (s.Then 14 (s.Return ((Of2 binary.Cons (Of unary.Vi (Number (pos 1))) (Of2 binary.Cons (Of unary.Vi (Number (pos 2))) (Of2 binary.Cons (Of unary.Vi (Number (pos 0))) (Of2 binary.Cons (Of unary.Vi (Number (pos 0))) Nil)))) ∷ []) ([]) ([])) s.NoBlock s.End)))))))) ≡ (RefusedAt 10 2 3)
unfolding computing
random_998 = refl

random_999 : body_verdict (record { predicates = ((record { name = name_E; args = ([]); cases = ((record { opened = []; facts = ([]); locals = []; items = ([]) }) ∷ []) }) ∷ []); specs = ((record { is_void = false; name = name_main; params = ([]); vars = []; pre = (record { opened = []; facts = ([]); locals = []; items = ((Data (Number (pos 64)) (Global name_arr) (Of2 binary.Cons (Of unary.Vi (Number (pos 1))) (Of2 binary.Cons (Of unary.Vi (Number (pos 2))) (Of2 binary.Cons (Of unary.Vi (Number (pos 0))) (Of2 binary.Cons (Of unary.Vi (Number (pos 0))) Nil))))) ∷ []) }); post = (record { opened = (sort.List ∷ []); facts = ((IsInt (Var 0 sort.Val)) ∷ []); locals = []; items = ((Data (Number (pos 64)) (Global name_arr) (Var 1 sort.List)) ∷ []) }) }) ∷ []) }) (record { is_void = false; name = name_main; params = ([]); vars = []; pre = (record { opened = []; facts = ([]); locals = []; items = ((Data (Number (pos 64)) (Global name_arr) (Of2 binary.Cons (Of unary.Vi (Number (pos 1))) (Of2 binary.Cons (Of unary.Vi (Number (pos 2))) (Of2 binary.Cons (Of unary.Vi (Number (pos 0))) (Of2 binary.Cons (Of unary.Vi (Number (pos 0))) Nil))))) ∷ []) }); post = (record { opened = (sort.List ∷ []); facts = ((IsInt (Var 0 sort.Val)) ∷ []); locals = []; items = ((Data (Number (pos 64)) (Global name_arr) (Var 1 sort.List)) ∷ []) }) }) (record { temps = (name_s ∷ name_t ∷ name_i ∷ name_x1 ∷ name_d0 ∷ name_p1 ∷ name_q1 ∷ []); body = (c.Then (c.Set 0 (c.Const 1)) (c.Then (c.Set 1 (c.Const 2)) (c.Then (c.Set 4 (c.Binary two.Add kind.Signed (c.Const 2) (c.Const 1))) (c.Then (c.Set 0 (c.Temp 1)) (c.Then (c.Set 2 (c.Const 0)) (c.Then (c.Loop (c.Then (c.If (c.Nonzero kind.Signed (c.Binary two.Lt kind.Signed (c.Temp 2) (c.Const 10))) (c.Then (c.Set 4 (c.Binary two.Add kind.Signed (c.Temp 2) (c.Const 1))) (c.Then (c.Set 2 (c.Binary two.Add kind.Signed (c.Temp 2) (c.Const 1))) c.End)) (c.Then c.Break c.End)) c.End)) (c.Then (c.Load 1 (root.Global name_arr 4) (c.Index kind.Signed (c.Const 3) c.Here)) (c.Then (c.Return (Some (c.Temp 0))) (c.Then (c.Return (Some (c.Temp 0))) c.End))))))))) }) (s.Then 1 (s.Set ([]) ([])) s.NoBlock (s.Then 2 (s.Set ([]) ([])) s.NoBlock (s.Then 3 (s.Set ([]) ([])) s.NoBlock (s.Then 4 (s.Set ([]) ([])) s.NoBlock (s.Then 5 (s.Set ([]) ([])) s.NoBlock (s.Then 6 (s.While (record { opened = (sort.Int ∷ []); facts = ((Rel relation.Le (Number (pos 0)) (Var 0 sort.Int)) ∷ (Rel relation.Le (Var 0 sort.Int) (Number (pos 10))) ∷ []); locals = ((name_s, (Of unary.Vi (Number (pos 2)))) ∷ (name_t, (Of unary.Vi (Number (pos 2)))) ∷ (name_i, (Of unary.Vi (Var 0 sort.Int))) ∷ []); items = ((Data (Number (pos 64)) (Global name_arr) (Of2 binary.Cons (Of unary.Vi (Number (pos 1))) (Of2 binary.Cons (Of unary.Vi (Number (pos 2))) (Of2 binary.Cons (Of unary.Vi (Number (pos 0))) (Of2 binary.Cons (Of unary.Vi (Number (pos 0))) Nil))))) ∷ []) }) (record { opened = (sort.Int ∷ []); facts = ((Rel relation.Le (Number (pos 0)) (Var 0 sort.Int)) ∷ (Rel relation.Le (Var 0 sort.Int) (Number (pos 10))) ∷ (Rel relation.Le (Number (pos 10)) (Var 0 sort.Int)) ∷ []); locals = ((name_s, (Of unary.Vi (Number (pos 2)))) ∷ (name_t, (Of unary.Vi (Number (pos 2)))) ∷ (name_i, (Of unary.Vi (Var 0 sort.Int))) ∷ []); items = ((Data (Number (pos 64)) (Global name_arr) (Of2 binary.Cons (Of unary.Vi (Number (pos 1))) (Of2 binary.Cons (Of unary.Vi (Number (pos 2))) (Of2 binary.Cons (Of unary.Vi (Number (pos 0))) (Of2 binary.Cons (Of unary.Vi (Number (pos 0))) Nil))))) ∷ []) }) (name_k2 ∷ []) ([]) (name_k1 ∷ [])) (s.WithBlock (s.Then 7 (s.Meet ((Number (pos 0)) ∷ []) ([])) s.NoBlock s.End) (s.WithBlock (s.Then 8 (s.If ([]) ((record { lines = ((line.Comb (((pos 1), 0) ∷ ((pos 1), 2) ∷ [])) ∷ []) }) ∷ (record { lines = ((line.Comb (((pos 1), 1) ∷ ((pos 1), 2) ∷ [])) ∷ []) }) ∷ []) ([]) ([])) (s.WithBlock (s.Then 9 (s.Set ([]) ((record { lines = ((line.Comb (((pos 1), 0) ∷ ((pos 1), 3) ∷ [])) ∷ []) }) ∷ (record { lines = ((line.Comb (((pos 1), 1) ∷ ((pos 1), 3) ∷ [])) ∷ []) }) ∷ (record { lines = ((line.Comb (((pos 1), 0) ∷ ((pos 1), 3) ∷ [])) ∷ []) }) ∷ (record { lines = ((line.Comb (((pos 1), 1) ∷ ((pos 1), 3) ∷ [])) ∷ []) }) ∷ [])) s.NoBlock (s.Then 10 (s.Set ([]) ((record { lines = ((line.Comb (((pos 1), 0) ∷ ((pos 1), 3) ∷ [])) ∷ []) }) ∷ (record { lines = ((line.Comb (((pos 1), 1) ∷ ((pos 1), 3) ∷ [])) ∷ []) }) ∷ (record { lines = ((line.Comb (((pos 1), 0) ∷ ((pos 1), 3) ∷ [])) ∷ []) }) ∷ (record { lines = ((line.Comb (((pos 1), 1) ∷ ((pos 1), 3) ∷ [])) ∷ []) }) ∷ [])) s.NoBlock (s.Then 11 (s.Fall ((Of2 binary.Add (Named name_k1) (Number (pos 1))) ∷ []) ((record { lines = ((line.Comb (((pos 1), 0) ∷ ((pos 1), 3) ∷ [])) ∷ []) }) ∷ [])) s.NoBlock s.End))) (s.WithBlock (s.Then 12 (s.Break ((Named name_k1) ∷ []) ([])) s.NoBlock s.End) s.NoBlock)) s.End) s.NoBlock)) (s.Then 13 (s.Load 0 ([]) ([])) s.NoBlock (s.Then 14 (s.Return ((Of2 binary.Cons (Of unary.Vi (Number (pos 1))) (Of2 binary.Cons (Of unary.Vi (Number (pos 2))) (Of2 binary.Cons (Of unary.Vi (Number (pos 0))) (Of2 binary.Cons (Of unary.Vi (Number (pos 0))) Nil)))) ∷ []) ([]) ([])) s.NoBlock s.End)))))))) ≡ Accepted
unfolding computing
random_999 = refl

random_1000 : body_verdict (record { predicates = ((record { name = name_E; args = ([]); cases = ((record { opened = []; facts = ([]); locals = []; items = ([]) }) ∷ []) }) ∷ []); specs = ((record { is_void = false; name = name_main; params = ([]); vars = []; pre = (record { opened = []; facts = ([]); locals = []; items = ((Data (Number (pos 64)) (Global name_arr) (Of2 binary.Cons (Of unary.Vi (Number (pos 1))) (Of2 binary.Cons (Of unary.Vi (Number (pos 2))) (Of2 binary.Cons (Of unary.Vi (Number (pos 0))) (Of2 binary.Cons (Of unary.Vi (Number (pos 0))) Nil))))) ∷ []) }); post = (record { opened = (sort.List ∷ []); facts = ((IsInt (Var 0 sort.Val)) ∷ []); locals = []; items = ((Data (Number (pos 64)) (Global name_arr) (Var 1 sort.List)) ∷ []) }) }) ∷ []) }) (record { is_void = false; name = name_main; params = ([]); vars = []; pre = (record { opened = []; facts = ([]); locals = []; items = ((Data (Number (pos 64)) (Global name_arr) (Of2 binary.Cons (Of unary.Vi (Number (pos 1))) (Of2 binary.Cons (Of unary.Vi (Number (pos 2))) (Of2 binary.Cons (Of unary.Vi (Number (pos 0))) (Of2 binary.Cons (Of unary.Vi (Number (pos 0))) Nil))))) ∷ []) }); post = (record { opened = (sort.List ∷ []); facts = ((IsInt (Var 0 sort.Val)) ∷ []); locals = []; items = ((Data (Number (pos 64)) (Global name_arr) (Var 1 sort.List)) ∷ []) }) }) (record { temps = (name_s ∷ name_t ∷ name_i ∷ name_x1 ∷ name_d0 ∷ name_p1 ∷ name_q1 ∷ []); body = (c.Then (c.Set 0 (c.Const 1)) (c.Then (c.Set 1 (c.Const 2)) (c.Then (c.Set 4 (c.Binary two.Add kind.Signed (c.Const 2) (c.Const 1))) (c.Then (c.Set 0 (c.Temp 1)) (c.Then (c.Set 2 (c.Const 1)) (c.Then (c.Loop (c.Then (c.If (c.Nonzero kind.Signed (c.Binary two.Lt kind.Signed (c.Temp 2) (c.Const 10))) (c.Then (c.Set 4 (c.Binary two.Add kind.Signed (c.Temp 2) (c.Const 1))) (c.Then (c.Set 2 (c.Binary two.Add kind.Signed (c.Temp 2) (c.Const 1))) c.End)) (c.Then c.Break c.End)) c.End)) (c.Then (c.Load 1 (root.Global name_arr 4) (c.Index kind.Signed (c.Const 3) c.Here)) (c.Then (c.Return (Some (c.Temp 0))) c.End)))))))) }) (s.Then 1 (s.Set ([]) ([])) s.NoBlock (s.Then 2 (s.Set ([]) ([])) s.NoBlock (s.Then 3 (s.Set ([]) ([])) s.NoBlock (s.Then 4 (s.Set ([]) ([])) s.NoBlock (s.Then 5 (s.Set ([]) ([])) s.NoBlock (s.Then 6 (s.While (record { opened = (sort.Int ∷ []); facts = ((Rel relation.Le (Number (pos 0)) (Var 0 sort.Int)) ∷ (Rel relation.Le (Var 0 sort.Int) (Number (pos 10))) ∷ []); locals = ((name_s, (Of unary.Vi (Number (pos 2)))) ∷ (name_t, (Of unary.Vi (Number (pos 2)))) ∷ (name_i, (Of unary.Vi (Var 0 sort.Int))) ∷ []); items = ((Data (Number (pos 64)) (Global name_arr) (Of2 binary.Cons (Of unary.Vi (Number (pos 1))) (Of2 binary.Cons (Of unary.Vi (Number (pos 2))) (Of2 binary.Cons (Of unary.Vi (Number (pos 0))) (Of2 binary.Cons (Of unary.Vi (Number (pos 0))) Nil))))) ∷ []) }) (record { opened = (sort.Int ∷ []); facts = ((Rel relation.Le (Number (pos 0)) (Var 0 sort.Int)) ∷ (Rel relation.Le (Var 0 sort.Int) (Number (pos 10))) ∷ (Rel relation.Le (Number (pos 10)) (Var 0 sort.Int)) ∷ []); locals = ((name_s, (Of unary.Vi (Number (pos 2)))) ∷ (name_t, (Of unary.Vi (Number (pos 2)))) ∷ (name_i, (Of unary.Vi (Var 0 sort.Int))) ∷ []); items = ((Data (Number (pos 64)) (Global name_arr) (Of2 binary.Cons (Of unary.Vi (Number (pos 1))) (Of2 binary.Cons (Of unary.Vi (Number (pos 2))) (Of2 binary.Cons (Of unary.Vi (Number (pos 0))) (Of2 binary.Cons (Of unary.Vi (Number (pos 0))) Nil))))) ∷ []) }) (name_k2 ∷ []) ([]) (name_k1 ∷ [])) (s.WithBlock (s.Then 7 (s.Meet ((Number (pos 0)) ∷ []) ([])) s.NoBlock s.End) (s.WithBlock (s.Then 8 (s.If ([]) ((record { lines = ((line.Comb (((pos 1), 0) ∷ ((pos 1), 2) ∷ [])) ∷ []) }) ∷ (record { lines = ((line.Comb (((pos 1), 1) ∷ ((pos 1), 2) ∷ [])) ∷ []) }) ∷ []) ([]) ([])) (s.WithBlock (s.Then 9 (s.Set ([]) ((record { lines = ((line.Comb (((pos 1), 0) ∷ ((pos 1), 3) ∷ [])) ∷ []) }) ∷ (record { lines = ((line.Comb (((pos 1), 1) ∷ ((pos 1), 3) ∷ [])) ∷ []) }) ∷ (record { lines = ((line.Comb (((pos 1), 0) ∷ ((pos 1), 3) ∷ [])) ∷ []) }) ∷ (record { lines = ((line.Comb (((pos 1), 1) ∷ ((pos 1), 3) ∷ [])) ∷ []) }) ∷ [])) s.NoBlock (s.Then 10 (s.Set ([]) ((record { lines = ((line.Comb (((pos 1), 0) ∷ ((pos 1), 3) ∷ [])) ∷ []) }) ∷ (record { lines = ((line.Comb (((pos 1), 1) ∷ ((pos 1), 3) ∷ [])) ∷ []) }) ∷ (record { lines = ((line.Comb (((pos 1), 0) ∷ ((pos 1), 3) ∷ [])) ∷ []) }) ∷ (record { lines = ((line.Comb (((pos 1), 1) ∷ ((pos 1), 3) ∷ [])) ∷ []) }) ∷ [])) s.NoBlock (s.Then 11 (s.Fall ((Of2 binary.Add (Named name_k1) (Number (pos 1))) ∷ []) ((record { lines = ((line.Comb (((pos 1), 0) ∷ ((pos 1), 3) ∷ [])) ∷ []) }) ∷ [])) s.NoBlock s.End))) (s.WithBlock (s.Then 12 (s.Break ((Named name_k1) ∷ []) ([])) s.NoBlock s.End) s.NoBlock)) s.End) s.NoBlock)) (s.Then 13 (s.Load 0 ([]) ([])) s.NoBlock (s.Then 14 (s.Return ((Of2 binary.Cons (Of unary.Vi (Number (pos 1))) (Of2 binary.Cons (Of unary.Vi (Number (pos 2))) (Of2 binary.Cons (Of unary.Vi (Number (pos 0))) (Of2 binary.Cons (Of unary.Vi (Number (pos 0))) Nil)))) ∷ []) ([]) ([])) s.NoBlock s.End)))))))) ≡ (RefusedAt 7 37 4)
unfolding computing
random_1000 = refl
