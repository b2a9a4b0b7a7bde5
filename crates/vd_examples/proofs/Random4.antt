-- Random works.
use Rattle.std.specs.Prelude.{◌≡◌, refl, pos, [], ◌∷◌, true, false, Some, None}
use Rattle.vd_terms.specs.Terms.{Number, Var, Named, Global, Undef, Nil, Of, Of2, Of3}
use Rattle.vd_terms.specs.declared.assertion.FactOf.TheVariants.{Rel, IsInt}
use Rattle.vd_terms.specs.declared.assertion.ItemOf.TheVariants.{Data, Lock, Pred}
use Rattle.vd_rules.specs.Computing.{computing}
use Rattle.vd_rules.specs.Verdicts.{Accepted, RefusedAt, body_verdict}
use Rattle.vd_terms.specs.declared.operation.Unary.TheVariants as unary
use Rattle.vd_terms.specs.declared.operation.Binary.TheVariants as binary
use Rattle.vd_terms.specs.declared.operation.Ternary.TheVariants as ternary
use Rattle.vd_logic.specs.declared.term.Sort.TheVariants as sort
use Rattle.vd_logic.specs.declared.assertion.Rel.TheVariants as relation
use Rattle.vd_logic.specs.declared.step.CertLine.TheVariants as line
use Rattle.vd_logic.specs.declared.step.Occurrence.TheVariants as occurrence
use Rattle.vd_clight.specs.declared.syntax.UnOp.TheVariants as one
use Rattle.vd_clight.specs.declared.syntax.BinOp.TheVariants as two
use Rattle.vd_clight.specs.declared.typed.Kind.TheVariants as kind
use Rattle.vd_clight.specs.declared.typed.Root.TheVariants as root
use Rattle.vd_clight.specs.declared.typed.LockOp.TheVariants as lock
use Rattle.vd_steps.specs.Code as c
use Rattle.vd_steps.specs.Script as s
use Rattle.vd_examples.specs.Names.{name_E, name_a, name_a0, name_a1, name_arr, name_b, name_b0, name_b2, name_c, name_d0, name_e0, name_e1, name_f, name_g, name_h0, name_h1, name_i, name_iv, name_k, name_k1, name_k2, name_k3, name_k4, name_k5, name_l, name_l0, name_l1, name_len_upd, name_m, name_main, name_n, name_n0, name_n1, name_nop, name_o, name_o0, name_o2, name_p, name_p00, name_p1, name_p20, name_pos, name_ptr_null, name_put, name_q0, name_q1, name_r0, name_r1, name_rev_rev, name_s, name_s0, name_s1, name_t, name_u0, name_u2, name_v, name_v0, name_v2, name_w, name_w0, name_w1, name_x, name_x1, name_y, name_z, name_zz}

random_301 : body_verdict (record { predicates = ([]); specs = ((record { is_void = true; name = name_f; params = (name_s0 ∷ name_n1 ∷ name_u2 ∷ []); vars = ((name_w0, sort.Val) ∷ (name_h0, sort.Int) ∷ (name_q0, sort.Val) ∷ (name_a1, sort.Int) ∷ (name_b2, sort.Int) ∷ []); pre = (record { opened = []; facts = ((Rel relation.Le (Number (pos 0)) (Var 1 sort.Int)) ∷ (Rel relation.Le (Var 1 sort.Int) (Number (pos 20))) ∷ (Rel relation.Le (Number (pos 0)) (Var 3 sort.Int)) ∷ (Rel relation.Le (Var 3 sort.Int) (Number (pos 100))) ∷ (Rel relation.Le (Number (pos 0)) (Var 4 sort.Int)) ∷ (Rel relation.Le (Var 4 sort.Int) (Number (pos 31))) ∷ []); locals = ((name_s0, (Var 0 sort.Val)) ∷ (name_n1, (Of unary.Vi (Var 3 sort.Int))) ∷ (name_u2, (Of unary.Vi (Var 4 sort.Int))) ∷ []); items = ((Data (Number (pos 64)) (Var 0 sort.Val) (Of2 binary.Cons (Of unary.Vi (Var 1 sort.Int)) (Of2 binary.Cons (Var 2 sort.Val) (Of2 binary.Cons (Of unary.Vi (Number (pos 3))) Nil)))) ∷ []) }); post = (record { opened = []; facts = ([]); locals = []; items = ((Data (Number (pos 64)) (Var 0 sort.Val) (Of2 binary.Cons (Of unary.Vi (Var 1 sort.Int)) (Of2 binary.Cons (Var 2 sort.Val) (Of2 binary.Cons (Of unary.Vi (Number (pos 3))) Nil)))) ∷ []) }) }) ∷ (record { is_void = false; name = name_main; params = ([]); vars = []; pre = (record { opened = []; facts = ([]); locals = []; items = ([]) }); post = (record { opened = []; facts = ((Rel relation.Eq (Var 0 sort.Val) (Of unary.Vi (Number (pos 0)))) ∷ []); locals = []; items = ([]) }) }) ∷ []) }) (record { is_void = true; name = name_f; params = (name_s0 ∷ name_n1 ∷ name_u2 ∷ []); vars = ((name_w0, sort.Val) ∷ (name_h0, sort.Int) ∷ (name_q0, sort.Val) ∷ (name_a1, sort.Int) ∷ (name_b2, sort.Int) ∷ []); pre = (record { opened = []; facts = ((Rel relation.Le (Number (pos 0)) (Var 1 sort.Int)) ∷ (Rel relation.Le (Var 1 sort.Int) (Number (pos 20))) ∷ (Rel relation.Le (Number (pos 0)) (Var 3 sort.Int)) ∷ (Rel relation.Le (Var 3 sort.Int) (Number (pos 100))) ∷ (Rel relation.Le (Number (pos 0)) (Var 4 sort.Int)) ∷ (Rel relation.Le (Var 4 sort.Int) (Number (pos 31))) ∷ []); locals = ((name_s0, (Var 0 sort.Val)) ∷ (name_n1, (Of unary.Vi (Var 3 sort.Int))) ∷ (name_u2, (Of unary.Vi (Var 4 sort.Int))) ∷ []); items = ((Data (Number (pos 64)) (Var 0 sort.Val) (Of2 binary.Cons (Of unary.Vi (Var 1 sort.Int)) (Of2 binary.Cons (Var 2 sort.Val) (Of2 binary.Cons (Of unary.Vi (Number (pos 3))) Nil)))) ∷ []) }); post = (record { opened = []; facts = ([]); locals = []; items = ((Data (Number (pos 64)) (Var 0 sort.Val) (Of2 binary.Cons (Of unary.Vi (Var 1 sort.Int)) (Of2 binary.Cons (Var 2 sort.Val) (Of2 binary.Cons (Of unary.Vi (Number (pos 3))) Nil)))) ∷ []) }) }) (record { temps = (name_s0 ∷ name_n1 ∷ name_u2 ∷ name_s ∷ name_t ∷ name_i ∷ name_x1 ∷ name_d0 ∷ name_p1 ∷ name_q1 ∷ []); body = (c.Then (c.Set 3 (c.Const 2)) (c.Then (c.Set 4 (c.Const 0)) (c.Then c.Skip (c.Then (c.Set 3 (c.Temp 3)) c.End)))) }) (s.Then 1 (s.Set ([]) ([])) s.NoBlock (s.Then 2 s.Skip s.NoBlock (s.Then 3 (s.Set ([]) ([])) s.NoBlock (s.Then 4 (s.Set ([]) ([])) s.NoBlock (s.Then 5 (s.Fall ([]) ([])) s.NoBlock s.End))))) ≡ (RefusedAt 2 1 1)
unfolding computing
random_301 = refl

random_302 : body_verdict (record { predicates = ([]); specs = ((record { is_void = false; name = name_pos; params = (name_n ∷ []); vars = ((name_a, sort.Int) ∷ []); pre = (record { opened = []; facts = ((Rel relation.Le (Number (pos 0)) (Var 0 sort.Int)) ∷ (Rel relation.Le (Var 0 sort.Int) (Number (pos 100))) ∷ []); locals = ((name_n, (Of unary.Vi (Var 0 sort.Int))) ∷ []); items = ([]) }); post = (record { opened = (sort.Int ∷ []); facts = ((Rel relation.Eq (Var 1 sort.Val) (Of unary.Vi (Var 2 sort.Int))) ∷ (Rel relation.Le (Number (pos 0)) (Var 2 sort.Int)) ∷ (Rel relation.Le (Var 2 sort.Int) (Var 0 sort.Int)) ∷ []); locals = []; items = ([]) }) }) ∷ (record { is_void = false; name = name_f; params = ([]); vars = []; pre = (record { opened = []; facts = ([]); locals = []; items = ([]) }); post = (record { opened = []; facts = ((IsInt (Var 0 sort.Val)) ∷ []); locals = []; items = ([]) }) }) ∷ (record { is_void = false; name = name_main; params = ([]); vars = []; pre = (record { opened = []; facts = ([]); locals = []; items = ([]) }); post = (record { opened = []; facts = ((Rel relation.Eq (Var 0 sort.Val) (Of unary.Vi (Number (pos 0)))) ∷ []); locals = []; items = ([]) }) }) ∷ []) }) (record { is_void = false; name = name_main; params = ([]); vars = []; pre = (record { opened = []; facts = ([]); locals = []; items = ([]) }); post = (record { opened = []; facts = ((Rel relation.Eq (Var 0 sort.Val) (Of unary.Vi (Number (pos 0)))) ∷ []); locals = []; items = ([]) }) }) (record { temps = ([]); body = (c.Then (c.Return (Some (c.Const 0))) c.End) }) s.End ≡ (RefusedAt 1 0 10)
unfolding computing
random_302 = refl

random_303 : body_verdict (record { predicates = ([]); specs = ((record { is_void = false; name = name_pos; params = (name_n ∷ []); vars = ((name_a, sort.Int) ∷ []); pre = (record { opened = []; facts = ((Rel relation.Le (Number (pos 0)) (Var 0 sort.Int)) ∷ (Rel relation.Le (Var 0 sort.Int) (Number (pos 100))) ∷ []); locals = ((name_n, (Of unary.Vi (Var 0 sort.Int))) ∷ []); items = ([]) }); post = (record { opened = (sort.Int ∷ []); facts = ((Rel relation.Eq (Var 1 sort.Val) (Of unary.Vi (Var 2 sort.Int))) ∷ (Rel relation.Le (Number (pos 0)) (Var 2 sort.Int)) ∷ (Rel relation.Le (Var 2 sort.Int) (Var 0 sort.Int)) ∷ []); locals = []; items = ([]) }) }) ∷ (record { is_void = false; name = name_f; params = ([]); vars = []; pre = (record { opened = []; facts = ([]); locals = []; items = ([]) }); post = (record { opened = []; facts = ((IsInt (Var 0 sort.Val)) ∷ []); locals = []; items = ([]) }) }) ∷ (record { is_void = false; name = name_main; params = ([]); vars = []; pre = (record { opened = []; facts = ([]); locals = []; items = ([]) }); post = (record { opened = []; facts = ((Rel relation.Eq (Var 0 sort.Val) (Of unary.Vi (Number (pos 0)))) ∷ []); locals = []; items = ([]) }) }) ∷ []) }) (record { is_void = false; name = name_f; params = ([]); vars = []; pre = (record { opened = []; facts = ([]); locals = []; items = ([]) }); post = (record { opened = []; facts = ((IsInt (Var 0 sort.Val)) ∷ []); locals = []; items = ([]) }) }) (record { temps = (name_s ∷ name_t ∷ name_i ∷ name_x1 ∷ name_d0 ∷ name_p1 ∷ name_q1 ∷ []); body = (c.Then (c.Set 0 (c.Const 0)) (c.Then (c.Set 1 (c.Const 1)) (c.Then (c.Call (Some 1) name_pos ((c.Temp 1) ∷ [])) (c.Then (c.Set 0 (c.Temp 0)) (c.Then (c.Malloc 5 3) (c.Then (c.If (c.Pointers (c.Temp 5) (c.Const 0) true) (c.Then (c.Return (Some (c.Const 0))) c.End) c.End) (c.Then (c.Store (root.Temp 5) (c.Offset 0 c.Here) (c.Temp 0)) (c.Then (c.Load 1 (root.Temp 5) (c.Offset 0 c.Here)) (c.Then (c.Free (c.Temp 5)) (c.Then (c.Return (Some (c.Const 7))) c.End)))))))))) }) (s.Then 1 (s.Set ([]) ([])) s.NoBlock (s.Then 2 (s.Set ([]) ([])) s.NoBlock (s.Then 3 (s.Call ((Number (pos 1)) ∷ []) ([]) ([]) (name_k1 ∷ name_k2 ∷ [])) s.NoBlock (s.Then 4 (s.Set ([]) ([])) s.NoBlock (s.Then 5 (s.Malloc name_k3 ([]) ([])) (s.WithBlock (s.Then 6 (s.If ([]) ([]) ([]) ([])) (s.WithBlock (s.Then 7 (s.Return ([]) ([]) ([])) s.NoBlock s.End) (s.WithBlock (s.Then 8 (s.Absurd ([])) s.NoBlock s.End) s.NoBlock)) s.End) (s.WithBlock (s.Then 9 (s.If (0 ∷ []) ([]) ([]) ([])) (s.WithBlock (s.Then 10 (s.Subst name_k3) s.NoBlock (s.Then 11 (s.Absurd ([])) s.NoBlock (s.Then 12 (s.Absurd ([])) s.NoBlock s.End))) (s.WithBlock (s.Then 13 (s.Store 0 ([]) ([])) s.NoBlock (s.Then 14 (s.Load 0 ([]) ([])) s.NoBlock (s.Then 15 (s.Free 0 1 ([])) s.NoBlock (s.Then 16 (s.Return ([]) ([]) ([])) s.NoBlock s.End)))) s.NoBlock)) s.End) s.NoBlock)) s.End))))) ≡ (RefusedAt 12 0 11)
unfolding computing
random_303 = refl

random_304 : body_verdict (record { predicates = ([]); specs = ((record { is_void = false; name = name_pos; params = (name_n ∷ []); vars = ((name_a, sort.Int) ∷ []); pre = (record { opened = []; facts = ((Rel relation.Le (Number (pos 0)) (Var 0 sort.Int)) ∷ (Rel relation.Le (Var 0 sort.Int) (Number (pos 100))) ∷ []); locals = ((name_n, (Of unary.Vi (Var 0 sort.Int))) ∷ []); items = ([]) }); post = (record { opened = (sort.Int ∷ []); facts = ((Rel relation.Eq (Var 1 sort.Val) (Of unary.Vi (Var 2 sort.Int))) ∷ (Rel relation.Le (Number (pos 0)) (Var 2 sort.Int)) ∷ (Rel relation.Le (Var 2 sort.Int) (Var 0 sort.Int)) ∷ []); locals = []; items = ([]) }) }) ∷ (record { is_void = false; name = name_f; params = ([]); vars = []; pre = (record { opened = []; facts = ([]); locals = []; items = ([]) }); post = (record { opened = []; facts = ((IsInt (Var 0 sort.Val)) ∷ []); locals = []; items = ([]) }) }) ∷ (record { is_void = false; name = name_main; params = ([]); vars = []; pre = (record { opened = []; facts = ([]); locals = []; items = ([]) }); post = (record { opened = []; facts = ((Rel relation.Eq (Var 0 sort.Val) (Of unary.Vi (Number (pos 0)))) ∷ []); locals = []; items = ([]) }) }) ∷ []) }) (record { is_void = false; name = name_f; params = ([]); vars = []; pre = (record { opened = []; facts = ([]); locals = []; items = ([]) }); post = (record { opened = []; facts = ((IsInt (Var 0 sort.Val)) ∷ []); locals = []; items = ([]) }) }) (record { temps = (name_s ∷ name_t ∷ name_i ∷ name_x1 ∷ name_d0 ∷ name_p1 ∷ name_q1 ∷ []); body = (c.Then (c.Set 0 (c.Const 0)) (c.Then (c.Set 1 (c.Const 1)) (c.Then (c.Call (Some 1) name_pos ((c.Temp 1) ∷ [])) (c.Then (c.Set 0 (c.Temp 0)) (c.Then (c.Set 0 (c.Temp 0)) (c.Then (c.Malloc 5 3) (c.Then (c.If (c.Pointers (c.Temp 5) (c.Const 0) true) (c.Then (c.Return (Some (c.Const 0))) c.End) c.End) (c.Then (c.Store (root.Temp 5) (c.Offset 0 c.Here) (c.Temp 0)) (c.Then (c.Load 1 (root.Temp 5) (c.Offset 0 c.Here)) (c.Then (c.Free (c.Temp 5)) (c.Then (c.Return (Some (c.Const 7))) c.End))))))))))) }) (s.Then 1 (s.Set ([]) ([])) s.NoBlock (s.Then 2 (s.Set ([]) ([])) s.NoBlock (s.Then 3 (s.Call ((Number (pos 1)) ∷ []) ([]) ([]) (name_k1 ∷ name_k2 ∷ [])) s.NoBlock (s.Then 4 (s.Set ([]) ([])) s.NoBlock (s.Then 5 (s.Malloc name_k3 ([]) ([])) (s.WithBlock (s.Then 6 (s.If ([]) ([]) ([]) ([])) (s.WithBlock (s.Then 7 (s.Return ([]) ([]) ([])) s.NoBlock s.End) (s.WithBlock (s.Then 8 (s.Absurd ([])) s.NoBlock s.End) s.NoBlock)) s.End) (s.WithBlock (s.Then 9 (s.If (0 ∷ []) ([]) ([]) ([])) (s.WithBlock (s.Then 10 (s.Subst name_k3) s.NoBlock (s.Then 11 (s.Absurd ([])) s.NoBlock s.End)) (s.WithBlock (s.Then 12 (s.Store 0 ([]) ([])) s.NoBlock (s.Then 13 (s.Load 0 ([]) ([])) s.NoBlock (s.Then 14 (s.Free 0 1 ([])) s.NoBlock (s.Then 15 (s.Return ([]) ([]) ([])) s.NoBlock s.End)))) s.NoBlock)) s.End) s.NoBlock)) s.End))))) ≡ (RefusedAt 5 14 1)
unfolding computing
random_304 = refl

random_305 : body_verdict (record { predicates = ([]); specs = ((record { is_void = false; name = name_pos; params = (name_n ∷ []); vars = ((name_a, sort.Int) ∷ []); pre = (record { opened = []; facts = ((Rel relation.Le (Number (pos 0)) (Var 0 sort.Int)) ∷ (Rel relation.Le (Var 0 sort.Int) (Number (pos 100))) ∷ []); locals = ((name_n, (Of unary.Vi (Var 0 sort.Int))) ∷ []); items = ([]) }); post = (record { opened = (sort.Int ∷ []); facts = ((Rel relation.Eq (Var 1 sort.Val) (Of unary.Vi (Var 2 sort.Int))) ∷ (Rel relation.Le (Number (pos 0)) (Var 2 sort.Int)) ∷ (Rel relation.Le (Var 2 sort.Int) (Var 0 sort.Int)) ∷ []); locals = []; items = ([]) }) }) ∷ (record { is_void = false; name = name_f; params = ([]); vars = []; pre = (record { opened = []; facts = ([]); locals = []; items = ([]) }); post = (record { opened = []; facts = ((IsInt (Var 0 sort.Val)) ∷ []); locals = []; items = ([]) }) }) ∷ (record { is_void = false; name = name_main; params = ([]); vars = []; pre = (record { opened = []; facts = ([]); locals = []; items = ([]) }); post = (record { opened = []; facts = ((Rel relation.Eq (Var 0 sort.Val) (Of unary.Vi (Number (pos 0)))) ∷ []); locals = []; items = ([]) }) }) ∷ []) }) (record { is_void = false; name = name_f; params = ([]); vars = []; pre = (record { opened = []; facts = ([]); locals = []; items = ([]) }); post = (record { opened = []; facts = ((IsInt (Var 0 sort.Val)) ∷ []); locals = []; items = ([]) }) }) (record { temps = (name_s ∷ name_t ∷ name_i ∷ name_x1 ∷ name_d0 ∷ name_p1 ∷ name_q1 ∷ []); body = (c.Then (c.Set 0 (c.Const 0)) (c.Then (c.Set 1 (c.Const 1)) (c.Then (c.Call (Some 1) name_pos ((c.Temp 1) ∷ [])) (c.Then (c.Set 0 (c.Temp 0)) (c.Then (c.Malloc 5 3) (c.Then (c.If (c.Pointers (c.Temp 5) (c.Const 0) true) (c.Then (c.Return (Some (c.Const 0))) c.End) c.End) (c.Then (c.Store (root.Temp 5) (c.Offset 0 c.Here) (c.Temp 0)) (c.Then (c.Load 1 (root.Temp 5) (c.Offset 0 c.Here)) (c.Then (c.Free (c.Temp 5)) (c.Then (c.Return (Some (c.Const 7))) c.End)))))))))) }) (s.Then 1 (s.Set ([]) ([])) s.NoBlock (s.Then 2 (s.Set ([]) ([])) s.NoBlock (s.Then 3 (s.Call ((Number (pos 1)) ∷ []) ([]) ([]) (name_k1 ∷ name_k2 ∷ [])) s.NoBlock (s.Then 4 (s.Set ([]) ([])) s.NoBlock (s.Then 5 (s.Malloc name_k3 ([]) ([])) (s.WithBlock (s.Then 6 (s.If ([]) ([]) ([]) ([])) (s.WithBlock (s.Then 7 (s.Return ([]) ([]) ([])) s.NoBlock s.End) (s.WithBlock (s.Then 8 (s.Absurd ([])) s.NoBlock s.End) s.NoBlock)) s.End) (s.WithBlock (s.Then 9 (s.If (0 ∷ []) ([]) ([]) ([])) (s.WithBlock (s.Then 10 (s.Absurd ([])) s.NoBlock s.End) (s.WithBlock (s.Then 11 (s.Store 0 ([]) ([])) s.NoBlock (s.Then 12 (s.Load 0 ([]) ([])) s.NoBlock (s.Then 13 (s.Free 0 1 ([])) s.NoBlock (s.Then 14 (s.Return ([]) ([]) ([])) s.NoBlock s.End)))) s.NoBlock)) s.End) s.NoBlock)) s.End))))) ≡ (RefusedAt 10 24 3)
unfolding computing
random_305 = refl

random_306 : body_verdict (record { predicates = ([]); specs = ((record { is_void = false; name = name_pos; params = (name_n ∷ []); vars = ((name_a, sort.Int) ∷ []); pre = (record { opened = []; facts = ((Rel relation.Le (Number (pos 0)) (Var 0 sort.Int)) ∷ (Rel relation.Le (Var 0 sort.Int) (Number (pos 100))) ∷ []); locals = ((name_n, (Of unary.Vi (Var 0 sort.Int))) ∷ []); items = ([]) }); post = (record { opened = (sort.Int ∷ []); facts = ((Rel relation.Eq (Var 1 sort.Val) (Of unary.Vi (Var 2 sort.Int))) ∷ (Rel relation.Le (Number (pos 0)) (Var 2 sort.Int)) ∷ (Rel relation.Le (Var 2 sort.Int) (Var 0 sort.Int)) ∷ []); locals = []; items = ([]) }) }) ∷ (record { is_void = false; name = name_f; params = ([]); vars = []; pre = (record { opened = []; facts = ([]); locals = []; items = ([]) }); post = (record { opened = []; facts = ((IsInt (Var 0 sort.Val)) ∷ []); locals = []; items = ([]) }) }) ∷ (record { is_void = false; name = name_main; params = ([]); vars = []; pre = (record { opened = []; facts = ([]); locals = []; items = ([]) }); post = (record { opened = []; facts = ((Rel relation.Eq (Var 0 sort.Val) (Of unary.Vi (Number (pos 0)))) ∷ []); locals = []; items = ([]) }) }) ∷ []) }) (record { is_void = false; name = name_f; params = ([]); vars = []; pre = (record { opened = []; facts = ([]); locals = []; items = ([]) }); post = (record { opened = []; facts = ((IsInt (Var 0 sort.Val)) ∷ []); locals = []; items = ([]) }) }) (record { temps = (name_s ∷ name_t ∷ name_i ∷ name_x1 ∷ name_d0 ∷ name_p1 ∷ name_q1 ∷ []); body = (c.Then (c.Set 0 (c.Const 0)) (c.Then (c.Set 1 (c.Const 1)) (c.Then (c.Call (Some 1) name_pos ((c.Temp 1) ∷ [])) (c.Then (c.Set 0 (c.Temp 0)) (c.Then (c.Malloc 5 3) (c.Then (c.If (c.Pointers (c.Temp 5) (c.Const 0) true) (c.Then (c.Return (Some (c.Const 0))) c.End) c.End) (c.Then (c.Store (root.Temp 5) (c.Offset 0 c.Here) (c.Temp 0)) (c.Then (c.Load 1 (root.Temp 5) (c.Offset 0 c.Here)) (c.Then (c.Free (c.Temp 5)) (c.Then (c.Return (Some (c.Const 7))) c.End)))))))))) }) (s.Then 1 (s.Set ([]) ([])) s.NoBlock (s.Then 2 (s.Set ([]) ([])) s.NoBlock (s.Then 3 (s.Call ((Number (pos 1)) ∷ []) ([]) ([]) (name_k1 ∷ name_k2 ∷ [])) s.NoBlock (s.Then 4 (s.Set ([]) ([])) s.NoBlock (s.Then 5 (s.Malloc name_k3 ([]) ([])) (s.WithBlock (s.Then 6 (s.If ([]) ([]) ([]) ([])) (s.WithBlock (s.Then 7 (s.Return ([]) ([]) ([])) s.NoBlock (s.Then 8 (s.Return ([]) ([]) ([])) s.NoBlock s.End)) (s.WithBlock (s.Then 9 (s.Absurd ([])) s.NoBlock s.End) s.NoBlock)) s.End) (s.WithBlock (s.Then 10 (s.If (0 ∷ []) ([]) ([]) ([])) (s.WithBlock (s.Then 11 (s.Subst name_k3) s.NoBlock (s.Then 12 (s.Absurd ([])) s.NoBlock s.End)) (s.WithBlock (s.Then 13 (s.Store 0 ([]) ([])) s.NoBlock (s.Then 14 (s.Load 0 ([]) ([])) s.NoBlock (s.Then 15 (s.Free 0 1 ([])) s.NoBlock (s.Then 16 (s.Return ([]) ([]) ([])) s.NoBlock s.End)))) s.NoBlock)) s.End) s.NoBlock)) s.End))))) ≡ (RefusedAt 8 0 11)
unfolding computing
random_306 = refl

random_307 : body_verdict (record { predicates = ([]); specs = ((record { is_void = false; name = name_pos; params = (name_n ∷ []); vars = ((name_a, sort.Int) ∷ []); pre = (record { opened = []; facts = ((Rel relation.Le (Number (pos 0)) (Var 0 sort.Int)) ∷ (Rel relation.Le (Var 0 sort.Int) (Number (pos 100))) ∷ []); locals = ((name_n, (Of unary.Vi (Var 0 sort.Int))) ∷ []); items = ([]) }); post = (record { opened = (sort.Int ∷ []); facts = ((Rel relation.Eq (Var 1 sort.Val) (Of unary.Vi (Var 2 sort.Int))) ∷ (Rel relation.Le (Number (pos 0)) (Var 2 sort.Int)) ∷ (Rel relation.Le (Var 2 sort.Int) (Var 0 sort.Int)) ∷ []); locals = []; items = ([]) }) }) ∷ (record { is_void = false; name = name_f; params = ([]); vars = []; pre = (record { opened = []; facts = ([]); locals = []; items = ([]) }); post = (record { opened = []; facts = ((IsInt (Var 0 sort.Val)) ∷ []); locals = []; items = ([]) }) }) ∷ (record { is_void = false; name = name_main; params = ([]); vars = []; pre = (record { opened = []; facts = ([]); locals = []; items = ([]) }); post = (record { opened = []; facts = ((Rel relation.Eq (Var 0 sort.Val) (Of unary.Vi (Number (pos 0)))) ∷ []); locals = []; items = ([]) }) }) ∷ []) }) (record { is_void = false; name = name_f; params = ([]); vars = []; pre = (record { opened = []; facts = ([]); locals = []; items = ([]) }); post = (record { opened = []; facts = ((IsInt (Var 0 sort.Val)) ∷ []); locals = []; items = ([]) }) }) (record { temps = (name_s ∷ name_t ∷ name_i ∷ name_x1 ∷ name_d0 ∷ name_p1 ∷ name_q1 ∷ []); body = (c.Then (c.Set 0 (c.Const 0)) (c.Then (c.Set 1 (c.Const 1)) (c.Then (c.Call (Some 1) name_pos ((c.Temp 1) ∷ [])) (c.Then (c.Set 0 (c.Temp 0)) (c.Then (c.Malloc 5 3) (c.Then (c.If (c.Pointers (c.Temp 5) (c.Const 0) true) (c.Then (c.Return (Some (c.Const 0))) c.End) c.End) (c.Then (c.Load 1 (root.Temp 5) (c.Offset 0 c.Here)) (c.Then (c.Free (c.Temp 5)) (c.Then (c.Store (root.Temp 5) (c.Offset 0 c.Here) (c.Temp 0)) (c.Then (c.Return (Some (c.Const 7))) c.End)))))))))) }) (s.Then 1 (s.Set ([]) ([])) s.NoBlock (s.Then 2 (s.Set ([]) ([])) s.NoBlock (s.Then 3 (s.Call ((Number (pos 1)) ∷ []) ([]) ([]) (name_k1 ∷ name_k2 ∷ [])) s.NoBlock (s.Then 4 (s.Set ([]) ([])) s.NoBlock (s.Then 5 (s.Malloc name_k3 ([]) ([])) (s.WithBlock (s.Then 6 (s.If ([]) ([]) ([]) ([])) (s.WithBlock (s.Then 7 (s.Return ([]) ([]) ([])) s.NoBlock s.End) (s.WithBlock (s.Then 8 (s.Absurd ([])) s.NoBlock s.End) s.NoBlock)) s.End) (s.WithBlock (s.Then 9 (s.If (0 ∷ []) ([]) ([]) ([])) (s.WithBlock (s.Then 10 (s.Subst name_k3) s.NoBlock (s.Then 11 (s.Absurd ([])) s.NoBlock s.End)) (s.WithBlock (s.Then 12 (s.Store 0 ([]) ([])) s.NoBlock (s.Then 13 (s.Load 0 ([]) ([])) s.NoBlock (s.Then 14 (s.Free 0 1 ([])) s.NoBlock (s.Then 15 (s.Return ([]) ([]) ([])) s.NoBlock s.End)))) s.NoBlock)) s.End) s.NoBlock)) s.End))))) ≡ (RefusedAt 12 4 1)
unfolding computing
random_307 = refl

random_308 : body_verdict (record { predicates = ([]); specs = ((record { is_void = false; name = name_pos; params = (name_n ∷ []); vars = ((name_a, sort.Int) ∷ []); pre = (record { opened = []; facts = ((Rel relation.Le (Number (pos 0)) (Var 0 sort.Int)) ∷ (Rel relation.Le (Var 0 sort.Int) (Number (pos 100))) ∷ []); locals = ((name_n, (Of unary.Vi (Var 0 sort.Int))) ∷ []); items = ([]) }); post = (record { opened = (sort.Int ∷ []); facts = ((Rel relation.Eq (Var 1 sort.Val) (Of unary.Vi (Var 2 sort.Int))) ∷ (Rel relation.Le (Number (pos 0)) (Var 2 sort.Int)) ∷ (Rel relation.Le (Var 2 sort.Int) (Var 0 sort.Int)) ∷ []); locals = []; items = ([]) }) }) ∷ (record { is_void = false; name = name_f; params = ([]); vars = []; pre = (record { opened = []; facts = ([]); locals = []; items = ([]) }); post = (record { opened = []; facts = ((IsInt (Var 0 sort.Val)) ∷ []); locals = []; items = ([]) }) }) ∷ (record { is_void = false; name = name_main; params = ([]); vars = []; pre = (record { opened = []; facts = ([]); locals = []; items = ([]) }); post = (record { opened = []; facts = ((Rel relation.Eq (Var 0 sort.Val) (Of unary.Vi (Number (pos 0)))) ∷ []); locals = []; items = ([]) }) }) ∷ []) }) (record { is_void = false; name = name_f; params = ([]); vars = []; pre = (record { opened = []; facts = ([]); locals = []; items = ([]) }); post = (record { opened = []; facts = ((IsInt (Var 0 sort.Val)) ∷ []); locals = []; items = ([]) }) }) (record { temps = (name_s ∷ name_t ∷ name_i ∷ name_x1 ∷ name_d0 ∷ name_p1 ∷ name_q1 ∷ []); body = (c.Then (c.Set 0 (c.Const 0)) (c.Then (c.Set 1 (c.Const 1)) (c.Then (c.Call (Some 1) name_pos ((c.Temp 1) ∷ [])) (c.Then (c.Set 0 (c.Temp 0)) (c.Then (c.Malloc 5 3) (c.Then (c.If (c.Pointers (c.Temp 5) (c.Const 0) true) (c.Then (c.Return (Some (c.Const 0))) c.End) c.End) (c.Then (c.Store (root.Temp 5) (c.Offset 0 c.Here) (c.Temp 0)) (c.Then (c.Load 1 (root.Temp 5) (c.Offset 0 c.Here)) (c.Then (c.Free (c.Temp 5)) (c.Then (c.Return (Some (c.Const 7))) c.End)))))))))) }) (s.Then 1 (s.Set ([]) ([])) s.NoBlock (s.Then 2 (s.Set ([]) ([])) s.NoBlock (s.Then 3 (s.Call ((Number (pos 1)) ∷ []) ([]) ([]) (name_k1 ∷ name_k2 ∷ [])) s.NoBlock (s.Then 4 (s.Set ([]) ([])) s.NoBlock (s.Then 5 (s.Malloc name_k3 ([]) ([])) (s.WithBlock (s.Then 6 (s.If ([]) ([]) ([]) ([])) (s.WithBlock (s.Then 7 (s.Return ([]) ([]) ([])) s.NoBlock s.End) (s.WithBlock (s.Then 8 (s.Absurd ([])) s.NoBlock s.End) s.NoBlock)) s.End) (s.WithBlock (s.Then 9 (s.If (0 ∷ []) ([]) ([]) ([])) (s.WithBlock (s.Then 10 (s.Subst name_k3) s.NoBlock (s.Then 11 (s.Absurd ([])) s.NoBlock s.End)) (s.WithBlock (s.Then 12 (s.Store 0 ([]) ([])) s.NoBlock (s.Then 13 (s.Load 0 ([]) ([])) s.NoBlock (s.Then 14 (s.Free 5 1 ([])) s.NoBlock (s.Then 15 (s.Return ([]) ([]) ([])) s.NoBlock s.End)))) s.NoBlock)) s.End) s.NoBlock)) s.End))))) ≡ (RefusedAt 14 15 1)
unfolding computing
random_308 = refl

random_309 : body_verdict (record { predicates = ([]); specs = ((record { is_void = false; name = name_f; params = (name_r0 ∷ name_r1 ∷ name_p20 ∷ []); vars = ((name_e0, sort.Val) ∷ (name_l0, sort.List) ∷ (name_e1, sort.Val) ∷ (name_l1, sort.List) ∷ (name_v2, sort.Val) ∷ (name_o2, sort.Int) ∷ []); pre = (record { opened = []; facts = ((Rel relation.Eq (Of unary.Len (Var 1 sort.List)) (Number (pos 8))) ∷ (Rel relation.Eq (Of unary.Len (Var 3 sort.List)) (Number (pos 1))) ∷ (Rel relation.Le (Number (pos 0)) (Var 5 sort.Int)) ∷ (Rel relation.Le (Var 5 sort.Int) (Number (pos 20))) ∷ []); locals = ((name_r0, (Var 0 sort.Val)) ∷ (name_r1, (Var 2 sort.Val)) ∷ (name_p20, (Var 4 sort.Val)) ∷ []); items = ((Data (Number (pos 64)) (Var 0 sort.Val) (Var 1 sort.List)) ∷ (Data (Number (pos 64)) (Var 2 sort.Val) (Var 3 sort.List)) ∷ (Data (Number (pos 64)) (Var 4 sort.Val) (Of2 binary.Cons (Of unary.Vi (Var 5 sort.Int)) Nil)) ∷ []) }); post = (record { opened = []; facts = ((Rel relation.Eq (Var 6 sort.Val) (Of unary.Vi (Number (pos 1)))) ∷ []); locals = []; items = ((Data (Number (pos 64)) (Var 0 sort.Val) (Var 1 sort.List)) ∷ (Data (Number (pos 64)) (Var 2 sort.Val) (Var 3 sort.List)) ∷ (Data (Number (pos 64)) (Var 4 sort.Val) (Of2 binary.Cons (Of unary.Vi (Var 5 sort.Int)) Nil)) ∷ []) }) }) ∷ (record { is_void = false; name = name_main; params = ([]); vars = []; pre = (record { opened = []; facts = ([]); locals = []; items = ([]) }); post = (record { opened = []; facts = ((Rel relation.Eq (Var 0 sort.Val) (Of unary.Vi (Number (pos 0)))) ∷ []); locals = []; items = ([]) }) }) ∷ []) }) (record { is_void = false; name = name_f; params = (name_r0 ∷ name_r1 ∷ name_p20 ∷ []); vars = ((name_e0, sort.Val) ∷ (name_l0, sort.List) ∷ (name_e1, sort.Val) ∷ (name_l1, sort.List) ∷ (name_v2, sort.Val) ∷ (name_o2, sort.Int) ∷ []); pre = (record { opened = []; facts = ((Rel relation.Eq (Of unary.Len (Var 1 sort.List)) (Number (pos 8))) ∷ (Rel relation.Eq (Of unary.Len (Var 3 sort.List)) (Number (pos 1))) ∷ (Rel relation.Le (Number (pos 0)) (Var 5 sort.Int)) ∷ (Rel relation.Le (Var 5 sort.Int) (Number (pos 20))) ∷ []); locals = ((name_r0, (Var 0 sort.Val)) ∷ (name_r1, (Var 2 sort.Val)) ∷ (name_p20, (Var 4 sort.Val)) ∷ []); items = ((Data (Number (pos 64)) (Var 0 sort.Val) (Var 1 sort.List)) ∷ (Data (Number (pos 64)) (Var 2 sort.Val) (Var 3 sort.List)) ∷ (Data (Number (pos 64)) (Var 4 sort.Val) (Of2 binary.Cons (Of unary.Vi (Var 5 sort.Int)) Nil)) ∷ []) }); post = (record { opened = []; facts = ((Rel relation.Eq (Var 6 sort.Val) (Of unary.Vi (Number (pos 1)))) ∷ []); locals = []; items = ((Data (Number (pos 64)) (Var 0 sort.Val) (Var 1 sort.List)) ∷ (Data (Number (pos 64)) (Var 2 sort.Val) (Var 3 sort.List)) ∷ (Data (Number (pos 64)) (Var 4 sort.Val) (Of2 binary.Cons (Of unary.Vi (Var 5 sort.Int)) Nil)) ∷ []) }) }) (record { temps = (name_r0 ∷ name_r1 ∷ name_p20 ∷ name_s ∷ name_t ∷ name_i ∷ name_x1 ∷ name_d0 ∷ name_p1 ∷ name_q1 ∷ []); body = (c.Then (c.Set 3 (c.Const 1)) (c.Then (c.Set 4 (c.Const 2)) (c.Then (c.Set 6 (c.Binary two.Mul kind.Unsigned (c.Const 3) (c.Const 5))) (c.Then (c.Load 4 (root.Temp 2) c.Here) (c.Then (c.Load 4 (root.Temp 0) (c.Index kind.Signed (c.Const 4) c.Here)) (c.Then (c.Set 6 (c.Binary two.Mul kind.Unsigned (c.Const 3) (c.Const 5))) (c.Then (c.Return (Some (c.Temp 3))) c.End))))))) }) (s.Then 1 (s.Set ([]) ([])) s.NoBlock (s.Then 2 (s.Set ([]) ([])) s.NoBlock (s.Then 3 (s.Load 2 ([]) ([])) s.NoBlock (s.Then 4 (s.Load 0 ([]) ((record { lines = ((line.Comb (((pos 1), 1) ∷ ((pos 1), 6) ∷ [])) ∷ []) }) ∷ [])) s.NoBlock (s.Then 5 (s.Set ([]) ([])) s.NoBlock (s.Then 6 (s.Return ([]) ([]) ([])) s.NoBlock s.End)))))) ≡ (RefusedAt 3 3 1)
unfolding computing
random_309 = refl

random_310 : body_verdict (record { predicates = ([]); specs = ((record { is_void = false; name = name_f; params = (name_r0 ∷ name_r1 ∷ name_p20 ∷ []); vars = ((name_e0, sort.Val) ∷ (name_l0, sort.List) ∷ (name_e1, sort.Val) ∷ (name_l1, sort.List) ∷ (name_v2, sort.Val) ∷ (name_o2, sort.Int) ∷ []); pre = (record { opened = []; facts = ((Rel relation.Eq (Of unary.Len (Var 1 sort.List)) (Number (pos 8))) ∷ (Rel relation.Eq (Of unary.Len (Var 3 sort.List)) (Number (pos 1))) ∷ (Rel relation.Le (Number (pos 0)) (Var 5 sort.Int)) ∷ (Rel relation.Le (Var 5 sort.Int) (Number (pos 20))) ∷ []); locals = ((name_r0, (Var 0 sort.Val)) ∷ (name_r1, (Var 2 sort.Val)) ∷ (name_p20, (Var 4 sort.Val)) ∷ []); items = ((Data (Number (pos 64)) (Var 0 sort.Val) (Var 1 sort.List)) ∷ (Data (Number (pos 64)) (Var 2 sort.Val) (Var 3 sort.List)) ∷ (Data (Number (pos 64)) (Var 4 sort.Val) (Of2 binary.Cons (Of unary.Vi (Var 5 sort.Int)) Nil)) ∷ []) }); post = (record { opened = []; facts = ((Rel relation.Eq (Var 6 sort.Val) (Of unary.Vi (Number (pos 1)))) ∷ []); locals = []; items = ((Data (Number (pos 64)) (Var 0 sort.Val) (Var 1 sort.List)) ∷ (Data (Number (pos 64)) (Var 2 sort.Val) (Var 3 sort.List)) ∷ (Data (Number (pos 64)) (Var 4 sort.Val) (Of2 binary.Cons (Of unary.Vi (Var 5 sort.Int)) Nil)) ∷ []) }) }) ∷ (record { is_void = false; name = name_main; params = ([]); vars = []; pre = (record { opened = []; facts = ([]); locals = []; items = ([]) }); post = (record { opened = []; facts = ((Rel relation.Eq (Var 0 sort.Val) (Of unary.Vi (Number (pos 0)))) ∷ []); locals = []; items = ([]) }) }) ∷ []) }) (record { is_void = false; name = name_f; params = (name_r0 ∷ name_r1 ∷ name_p20 ∷ []); vars = ((name_e0, sort.Val) ∷ (name_l0, sort.List) ∷ (name_e1, sort.Val) ∷ (name_l1, sort.List) ∷ (name_v2, sort.Val) ∷ (name_o2, sort.Int) ∷ []); pre = (record { opened = []; facts = ((Rel relation.Eq (Of unary.Len (Var 1 sort.List)) (Number (pos 8))) ∷ (Rel relation.Eq (Of unary.Len (Var 3 sort.List)) (Number (pos 1))) ∷ (Rel relation.Le (Number (pos 0)) (Var 5 sort.Int)) ∷ (Rel relation.Le (Var 5 sort.Int) (Number (pos 20))) ∷ []); locals = ((name_r0, (Var 0 sort.Val)) ∷ (name_r1, (Var 2 sort.Val)) ∷ (name_p20, (Var 4 sort.Val)) ∷ []); items = ((Data (Number (pos 64)) (Var 0 sort.Val) (Var 1 sort.List)) ∷ (Data (Number (pos 64)) (Var 2 sort.Val) (Var 3 sort.List)) ∷ (Data (Number (pos 64)) (Var 4 sort.Val) (Of2 binary.Cons (Of unary.Vi (Var 5 sort.Int)) Nil)) ∷ []) }); post = (record { opened = []; facts = ((Rel relation.Eq (Var 6 sort.Val) (Of unary.Vi (Number (pos 1)))) ∷ []); locals = []; items = ((Data (Number (pos 64)) (Var 0 sort.Val) (Var 1 sort.List)) ∷ (Data (Number (pos 64)) (Var 2 sort.Val) (Var 3 sort.List)) ∷ (Data (Number (pos 64)) (Var 4 sort.Val) (Of2 binary.Cons (Of unary.Vi (Var 5 sort.Int)) Nil)) ∷ []) }) }) (record { temps = (name_r0 ∷ name_r1 ∷ name_p20 ∷ name_s ∷ name_t ∷ name_i ∷ name_x1 ∷ name_d0 ∷ name_p1 ∷ name_q1 ∷ []); body = (c.Then (c.Set 3 (c.Const 1)) (c.Then (c.Set 4 (c.Const 2)) (c.Then (c.Set 6 (c.Binary two.Mul kind.Unsigned (c.Const 3) (c.Const 5))) (c.Then (c.Load 4 (root.Temp 2) c.Here) (c.Then (c.Load 4 (root.Temp 0) (c.Index kind.Signed (c.Const 4) c.Here)) (c.Then (c.Set 6 (c.Binary two.Mul kind.Unsigned (c.Const 3) (c.Const 5))) (c.Then (c.Return (Some (c.Temp 3))) c.End))))))) }) (s.Then 1 (s.Naming name_zz (Number (pos 1))) s.NoBlock (s.Then 2 (s.Set ([]) ([])) s.NoBlock (s.Then 3 (s.Set ([]) ([])) s.NoBlock (s.Then 4 (s.Set ([]) ([])) s.NoBlock (s.Then 5 (s.Load 2 ([]) ([])) s.NoBlock (s.Then 6 (s.Load 0 ([]) ((record { lines = ((line.Comb (((pos 1), 1) ∷ ((pos 1), 6) ∷ [])) ∷ []) }) ∷ [])) s.NoBlock (s.Then 7 (s.Set ([]) ([])) s.NoBlock (s.Then 8 (s.Return ([]) ([]) ([])) s.NoBlock s.End)))))))) ≡ (RefusedAt 6 3 3)
unfolding computing
random_310 = refl

random_311 : body_verdict (record { predicates = ([]); specs = ((record { is_void = false; name = name_f; params = (name_r0 ∷ name_r1 ∷ name_p20 ∷ []); vars = ((name_e0, sort.Val) ∷ (name_l0, sort.List) ∷ (name_e1, sort.Val) ∷ (name_l1, sort.List) ∷ (name_v2, sort.Val) ∷ (name_o2, sort.Int) ∷ []); pre = (record { opened = []; facts = ((Rel relation.Eq (Of unary.Len (Var 1 sort.List)) (Number (pos 8))) ∷ (Rel relation.Eq (Of unary.Len (Var 3 sort.List)) (Number (pos 1))) ∷ (Rel relation.Le (Number (pos 0)) (Var 5 sort.Int)) ∷ (Rel relation.Le (Var 5 sort.Int) (Number (pos 20))) ∷ []); locals = ((name_r0, (Var 0 sort.Val)) ∷ (name_r1, (Var 2 sort.Val)) ∷ (name_p20, (Var 4 sort.Val)) ∷ []); items = ((Data (Number (pos 64)) (Var 0 sort.Val) (Var 1 sort.List)) ∷ (Data (Number (pos 64)) (Var 2 sort.Val) (Var 3 sort.List)) ∷ (Data (Number (pos 64)) (Var 4 sort.Val) (Of2 binary.Cons (Of unary.Vi (Var 5 sort.Int)) Nil)) ∷ []) }); post = (record { opened = []; facts = ((Rel relation.Eq (Var 6 sort.Val) (Of unary.Vi (Number (pos 1)))) ∷ []); locals = []; items = ((Data (Number (pos 64)) (Var 0 sort.Val) (Var 1 sort.List)) ∷ (Data (Number (pos 64)) (Var 2 sort.Val) (Var 3 sort.List)) ∷ (Data (Number (pos 64)) (Var 4 sort.Val) (Of2 binary.Cons (Of unary.Vi (Var 5 sort.Int)) Nil)) ∷ []) }) }) ∷ (record { is_void = false; name = name_main; params = ([]); vars = []; pre = (record { opened = []; facts = ([]); locals = []; items = ([]) }); post = (record { opened = []; facts = ((Rel relation.Eq (Var 0 sort.Val) (Of unary.Vi (Number (pos 0)))) ∷ []); locals = []; items = ([]) }) }) ∷ []) }) (record { is_void = false; name = name_f; params = (name_r0 ∷ name_r1 ∷ name_p20 ∷ []); vars = ((name_e0, sort.Val) ∷ (name_l0, sort.List) ∷ (name_e1, sort.Val) ∷ (name_l1, sort.List) ∷ (name_v2, sort.Val) ∷ (name_o2, sort.Int) ∷ []); pre = (record { opened = []; facts = ((Rel relation.Eq (Of unary.Len (Var 1 sort.List)) (Number (pos 8))) ∷ (Rel relation.Eq (Of unary.Len (Var 3 sort.List)) (Number (pos 1))) ∷ (Rel relation.Le (Number (pos 0)) (Var 5 sort.Int)) ∷ (Rel relation.Le (Var 5 sort.Int) (Number (pos 20))) ∷ []); locals = ((name_r0, (Var 0 sort.Val)) ∷ (name_r1, (Var 2 sort.Val)) ∷ (name_p20, (Var 4 sort.Val)) ∷ []); items = ((Data (Number (pos 64)) (Var 0 sort.Val) (Var 1 sort.List)) ∷ (Data (Number (pos 64)) (Var 2 sort.Val) (Var 3 sort.List)) ∷ (Data (Number (pos 64)) (Var 4 sort.Val) (Of2 binary.Cons (Of unary.Vi (Var 5 sort.Int)) Nil)) ∷ []) }); post = (record { opened = []; facts = ((Rel relation.Eq (Var 6 sort.Val) (Of unary.Vi (Number (pos 1)))) ∷ []); locals = []; items = ((Data (Number (pos 64)) (Var 0 sort.Val) (Var 1 sort.List)) ∷ (Data (Number (pos 64)) (Var 2 sort.Val) (Var 3 sort.List)) ∷ (Data (Number (pos 64)) (Var 4 sort.Val) (Of2 binary.Cons (Of unary.Vi (Var 5 sort.Int)) Nil)) ∷ []) }) }) (record { temps = (name_r0 ∷ name_r1 ∷ name_p20 ∷ name_s ∷ name_t ∷ name_i ∷ name_x1 ∷ name_d0 ∷ name_p1 ∷ name_q1 ∷ []); body = (c.Then (c.Set 3 (c.Const 1)) (c.Then (c.Set 4 (c.Const 2)) (c.Then (c.Set 6 (c.Binary two.Mul kind.Unsigned (c.Const 3) (c.Const 5))) (c.Then (c.Load 4 (root.Temp 2) c.Here) (c.Then (c.Load 4 (root.Temp 0) (c.Index kind.Signed (c.Const 4) c.Here)) (c.Then (c.Set 6 (c.Binary two.Mul kind.Unsigned (c.Const 3) (c.Const 5))) (c.Then (c.Return (Some (c.Temp 3))) c.End))))))) }) (s.Then 1 (s.Set ([]) ([])) s.NoBlock (s.Then 2 (s.Set ([]) ([])) s.NoBlock (s.Then 3 (s.Set ([]) ([])) s.NoBlock (s.Then 4 (s.Load 2 ([]) ([])) s.NoBlock (s.Then 5 (s.Load 0 ([]) ([])) s.NoBlock (s.Then 6 (s.Set ([]) ([])) s.NoBlock (s.Then 7 (s.Return ([]) ([]) ([])) s.NoBlock s.End))))))) ≡ (RefusedAt 5 3 3)
unfolding computing
random_311 = refl

random_312 : body_verdict (record { predicates = ([]); specs = ((record { is_void = false; name = name_f; params = (name_r0 ∷ name_r1 ∷ name_p20 ∷ []); vars = ((name_e0, sort.Val) ∷ (name_l0, sort.List) ∷ (name_e1, sort.Val) ∷ (name_l1, sort.List) ∷ (name_v2, sort.Val) ∷ (name_o2, sort.Int) ∷ []); pre = (record { opened = []; facts = ((Rel relation.Eq (Of unary.Len (Var 1 sort.List)) (Number (pos 8))) ∷ (Rel relation.Eq (Of unary.Len (Var 3 sort.List)) (Number (pos 1))) ∷ (Rel relation.Le (Number (pos 0)) (Var 5 sort.Int)) ∷ (Rel relation.Le (Var 5 sort.Int) (Number (pos 20))) ∷ []); locals = ((name_r0, (Var 0 sort.Val)) ∷ (name_r1, (Var 2 sort.Val)) ∷ (name_p20, (Var 4 sort.Val)) ∷ []); items = ((Data (Number (pos 64)) (Var 0 sort.Val) (Var 1 sort.List)) ∷ (Data (Number (pos 64)) (Var 2 sort.Val) (Var 3 sort.List)) ∷ (Data (Number (pos 64)) (Var 4 sort.Val) (Of2 binary.Cons (Of unary.Vi (Var 5 sort.Int)) Nil)) ∷ []) }); post = (record { opened = []; facts = ((Rel relation.Eq (Var 6 sort.Val) (Of unary.Vi (Number (pos 1)))) ∷ []); locals = []; items = ((Data (Number (pos 64)) (Var 0 sort.Val) (Var 1 sort.List)) ∷ (Data (Number (pos 64)) (Var 2 sort.Val) (Var 3 sort.List)) ∷ (Data (Number (pos 64)) (Var 4 sort.Val) (Of2 binary.Cons (Of unary.Vi (Var 5 sort.Int)) Nil)) ∷ []) }) }) ∷ (record { is_void = false; name = name_main; params = ([]); vars = []; pre = (record { opened = []; facts = ([]); locals = []; items = ([]) }); post = (record { opened = []; facts = ((Rel relation.Eq (Var 0 sort.Val) (Of unary.Vi (Number (pos 0)))) ∷ []); locals = []; items = ([]) }) }) ∷ []) }) (record { is_void = false; name = name_main; params = ([]); vars = []; pre = (record { opened = []; facts = ([]); locals = []; items = ([]) }); post = (record { opened = []; facts = ((Rel relation.Eq (Var 0 sort.Val) (Of unary.Vi (Number (pos 0)))) ∷ []); locals = []; items = ([]) }) }) (record { temps = ([]); body = (c.Then (c.Return (Some (c.Const 0))) c.End) }) s.End ≡ (RefusedAt 1 0 10)
unfolding computing
random_312 = refl

random_313 : body_verdict (record { predicates = ([]); specs = ((record { is_void = false; name = name_f; params = (name_r0 ∷ name_r1 ∷ name_p20 ∷ []); vars = ((name_e0, sort.Val) ∷ (name_l0, sort.List) ∷ (name_e1, sort.Val) ∷ (name_l1, sort.List) ∷ (name_v2, sort.Val) ∷ (name_o2, sort.Int) ∷ []); pre = (record { opened = []; facts = ((Rel relation.Eq (Of unary.Len (Var 1 sort.List)) (Number (pos 8))) ∷ (Rel relation.Eq (Of unary.Len (Var 3 sort.List)) (Number (pos 1))) ∷ (Rel relation.Le (Number (pos 0)) (Var 5 sort.Int)) ∷ (Rel relation.Le (Var 5 sort.Int) (Number (pos 20))) ∷ []); locals = ((name_r0, (Var 0 sort.Val)) ∷ (name_r1, (Var 2 sort.Val)) ∷ (name_p20, (Var 4 sort.Val)) ∷ []); items = ((Data (Number (pos 64)) (Var 0 sort.Val) (Var 1 sort.List)) ∷ (Data (Number (pos 64)) (Var 2 sort.Val) (Var 3 sort.List)) ∷ (Data (Number (pos 64)) (Var 4 sort.Val) (Of2 binary.Cons (Of unary.Vi (Var 5 sort.Int)) Nil)) ∷ []) }); post = (record { opened = []; facts = ((Rel relation.Eq (Var 6 sort.Val) (Of unary.Vi (Number (pos 1)))) ∷ []); locals = []; items = ((Data (Number (pos 64)) (Var 0 sort.Val) (Var 1 sort.List)) ∷ (Data (Number (pos 64)) (Var 2 sort.Val) (Var 3 sort.List)) ∷ (Data (Number (pos 64)) (Var 4 sort.Val) (Of2 binary.Cons (Of unary.Vi (Var 5 sort.Int)) Nil)) ∷ []) }) }) ∷ (record { is_void = false; name = name_main; params = ([]); vars = []; pre = (record { opened = []; facts = ([]); locals = []; items = ([]) }); post = (record { opened = []; facts = ((Rel relation.Eq (Var 0 sort.Val) (Of unary.Vi (Number (pos 0)))) ∷ []); locals = []; items = ([]) }) }) ∷ []) }) (record { is_void = false; name = name_f; params = (name_r0 ∷ name_r1 ∷ name_p20 ∷ []); vars = ((name_e0, sort.Val) ∷ (name_l0, sort.List) ∷ (name_e1, sort.Val) ∷ (name_l1, sort.List) ∷ (name_v2, sort.Val) ∷ (name_o2, sort.Int) ∷ []); pre = (record { opened = []; facts = ((Rel relation.Eq (Of unary.Len (Var 1 sort.List)) (Number (pos 8))) ∷ (Rel relation.Eq (Of unary.Len (Var 3 sort.List)) (Number (pos 1))) ∷ (Rel relation.Le (Number (pos 0)) (Var 5 sort.Int)) ∷ (Rel relation.Le (Var 5 sort.Int) (Number (pos 20))) ∷ []); locals = ((name_r0, (Var 0 sort.Val)) ∷ (name_r1, (Var 2 sort.Val)) ∷ (name_p20, (Var 4 sort.Val)) ∷ []); items = ((Data (Number (pos 64)) (Var 0 sort.Val) (Var 1 sort.List)) ∷ (Data (Number (pos 64)) (Var 2 sort.Val) (Var 3 sort.List)) ∷ (Data (Number (pos 64)) (Var 4 sort.Val) (Of2 binary.Cons (Of unary.Vi (Var 5 sort.Int)) Nil)) ∷ []) }); post = (record { opened = []; facts = ((Rel relation.Eq (Var 6 sort.Val) (Of unary.Vi (Number (pos 1)))) ∷ []); locals = []; items = ((Data (Number (pos 64)) (Var 0 sort.Val) (Var 1 sort.List)) ∷ (Data (Number (pos 64)) (Var 2 sort.Val) (Var 3 sort.List)) ∷ (Data (Number (pos 64)) (Var 4 sort.Val) (Of2 binary.Cons (Of unary.Vi (Var 5 sort.Int)) Nil)) ∷ []) }) }) (record { temps = (name_r0 ∷ name_r1 ∷ name_p20 ∷ name_s ∷ name_t ∷ name_i ∷ name_x1 ∷ name_d0 ∷ name_p1 ∷ name_q1 ∷ []); body = (c.Then (c.Set 3 (c.Const 1)) (c.Then (c.Set 4 (c.Const 2)) (c.Then (c.Set 6 (c.Binary two.Mul kind.Unsigned (c.Const 3) (c.Const 5))) (c.Then (c.Load 4 (root.Temp 2) c.Here) (c.Then (c.Load 4 (root.Temp 0) (c.Index kind.Signed (c.Const 4) c.Here)) (c.Then (c.Set 6 (c.Binary two.Mul kind.Unsigned (c.Const 3) (c.Const 5))) (c.Then (c.Return (Some (c.Temp 3))) c.End))))))) }) (s.Then 1 (s.Set ([]) ([])) s.NoBlock (s.Then 2 (s.Set ([]) ([])) s.NoBlock (s.Then 3 (s.Set ([]) ([])) s.NoBlock (s.Then 4 (s.Load 2 ([]) ([])) s.NoBlock (s.Then 5 (s.Load 0 ([]) ((record { lines = ((line.Comb (((pos 1), 1) ∷ ((pos 1), 6) ∷ [])) ∷ []) }) ∷ [])) s.NoBlock (s.Then 6 (s.Set ([]) ([])) s.NoBlock (s.Then 7 (s.Meet ([]) ([])) s.NoBlock s.End))))))) ≡ (RefusedAt 7 37 1)
unfolding computing
random_313 = refl

random_314 : body_verdict (record { predicates = ([]); specs = ((record { is_void = false; name = name_f; params = (name_r0 ∷ name_r1 ∷ name_p20 ∷ []); vars = ((name_e0, sort.Val) ∷ (name_l0, sort.List) ∷ (name_e1, sort.Val) ∷ (name_l1, sort.List) ∷ (name_v2, sort.Val) ∷ (name_o2, sort.Int) ∷ []); pre = (record { opened = []; facts = ((Rel relation.Eq (Of unary.Len (Var 1 sort.List)) (Number (pos 8))) ∷ (Rel relation.Eq (Of unary.Len (Var 3 sort.List)) (Number (pos 1))) ∷ (Rel relation.Le (Number (pos 0)) (Var 5 sort.Int)) ∷ (Rel relation.Le (Var 5 sort.Int) (Number (pos 20))) ∷ []); locals = ((name_r0, (Var 0 sort.Val)) ∷ (name_r1, (Var 2 sort.Val)) ∷ (name_p20, (Var 4 sort.Val)) ∷ []); items = ((Data (Number (pos 64)) (Var 0 sort.Val) (Var 1 sort.List)) ∷ (Data (Number (pos 64)) (Var 2 sort.Val) (Var 3 sort.List)) ∷ (Data (Number (pos 64)) (Var 4 sort.Val) (Of2 binary.Cons (Of unary.Vi (Var 5 sort.Int)) Nil)) ∷ []) }); post = (record { opened = []; facts = ((Rel relation.Eq (Var 6 sort.Val) (Of unary.Vi (Number (pos 1)))) ∷ []); locals = []; items = ((Data (Number (pos 64)) (Var 0 sort.Val) (Var 1 sort.List)) ∷ (Data (Number (pos 64)) (Var 2 sort.Val) (Var 3 sort.List)) ∷ (Data (Number (pos 64)) (Var 4 sort.Val) (Of2 binary.Cons (Of unary.Vi (Var 5 sort.Int)) Nil)) ∷ []) }) }) ∷ (record { is_void = false; name = name_main; params = ([]); vars = []; pre = (record { opened = []; facts = ([]); locals = []; items = ([]) }); post = (record { opened = []; facts = ((Rel relation.Eq (Var 0 sort.Val) (Of unary.Vi (Number (pos 0)))) ∷ []); locals = []; items = ([]) }) }) ∷ []) }) (record { is_void = false; name = name_f; params = (name_r0 ∷ name_r1 ∷ name_p20 ∷ []); vars = ((name_e0, sort.Val) ∷ (name_l0, sort.List) ∷ (name_e1, sort.Val) ∷ (name_l1, sort.List) ∷ (name_v2, sort.Val) ∷ (name_o2, sort.Int) ∷ []); pre = (record { opened = []; facts = ((Rel relation.Eq (Of unary.Len (Var 1 sort.List)) (Number (pos 8))) ∷ (Rel relation.Eq (Of unary.Len (Var 3 sort.List)) (Number (pos 1))) ∷ (Rel relation.Le (Number (pos 0)) (Var 5 sort.Int)) ∷ (Rel relation.Le (Var 5 sort.Int) (Number (pos 20))) ∷ []); locals = ((name_r0, (Var 0 sort.Val)) ∷ (name_r1, (Var 2 sort.Val)) ∷ (name_p20, (Var 4 sort.Val)) ∷ []); items = ((Data (Number (pos 64)) (Var 0 sort.Val) (Var 1 sort.List)) ∷ (Data (Number (pos 64)) (Var 2 sort.Val) (Var 3 sort.List)) ∷ (Data (Number (pos 64)) (Var 4 sort.Val) (Of2 binary.Cons (Of unary.Vi (Var 5 sort.Int)) Nil)) ∷ []) }); post = (record { opened = []; facts = ((Rel relation.Eq (Var 6 sort.Val) (Of unary.Vi (Number (pos 1)))) ∷ []); locals = []; items = ((Data (Number (pos 64)) (Var 0 sort.Val) (Var 1 sort.List)) ∷ (Data (Number (pos 64)) (Var 2 sort.Val) (Var 3 sort.List)) ∷ (Data (Number (pos 64)) (Var 4 sort.Val) (Of2 binary.Cons (Of unary.Vi (Var 5 sort.Int)) Nil)) ∷ []) }) }) (record { temps = (name_r0 ∷ name_r1 ∷ name_p20 ∷ name_s ∷ name_t ∷ name_i ∷ name_x1 ∷ name_d0 ∷ name_p1 ∷ name_q1 ∷ []); body = (c.Then (c.Set 3 (c.Const 1)) (c.Then (c.Set 4 (c.Const 2)) (c.Then (c.Set 6 (c.Binary two.Mul kind.Unsigned (c.Const 3) (c.Const 5))) (c.Then (c.Load 4 (root.Temp 2) c.Here) (c.Then (c.Load 4 (root.Temp 0) (c.Index kind.Signed (c.Const 4) c.Here)) (c.Then (c.Set 6 (c.Binary two.Mul kind.Unsigned (c.Const 3) (c.Const 5))) (c.Then (c.Return (Some (c.Temp 3))) c.End))))))) }) (s.Then 1 (s.Set ([]) ([])) s.NoBlock (s.Then 2 (s.Set ([]) ([])) s.NoBlock (s.Then 3 (s.Set ([]) ([])) s.NoBlock (s.Then 4 (s.Load 2 ([]) ([])) s.NoBlock (s.Then 5 (s.Load 0 ([]) ((record { lines = ((line.Comb (((pos 1), 1) ∷ ((pos 1), 6) ∷ [])) ∷ []) }) ∷ [])) s.NoBlock (s.Then 6 (s.Set ([]) ([])) s.NoBlock s.End)))))) ≡ (RefusedAt 7 0 10)
unfolding computing
random_314 = refl

random_315 : body_verdict (record { predicates = ([]); specs = ((record { is_void = true; name = name_f; params = (name_p00 ∷ name_s1 ∷ name_u2 ∷ []); vars = ((name_v0, sort.Val) ∷ (name_o0, sort.Int) ∷ (name_w1, sort.Val) ∷ (name_h1, sort.Int) ∷ (name_q1, sort.Val) ∷ (name_b2, sort.Int) ∷ []); pre = (record { opened = []; facts = ((Rel relation.Le (Number (pos 0)) (Var 1 sort.Int)) ∷ (Rel relation.Le (Var 1 sort.Int) (Number (pos 20))) ∷ (Rel relation.Le (Number (pos 0)) (Var 3 sort.Int)) ∷ (Rel relation.Le (Var 3 sort.Int) (Number (pos 20))) ∷ (Rel relation.Le (Number (pos 0)) (Var 5 sort.Int)) ∷ (Rel relation.Le (Var 5 sort.Int) (Number (pos 31))) ∷ []); locals = ((name_p00, (Var 0 sort.Val)) ∷ (name_s1, (Var 2 sort.Val)) ∷ (name_u2, (Of unary.Vi (Var 5 sort.Int))) ∷ []); items = ((Data (Number (pos 32)) (Var 0 sort.Val) (Of2 binary.Cons (Of unary.Vi (Var 1 sort.Int)) Nil)) ∷ (Data (Number (pos 64)) (Var 2 sort.Val) (Of2 binary.Cons (Of unary.Vi (Var 3 sort.Int)) (Of2 binary.Cons (Var 4 sort.Val) (Of2 binary.Cons (Of unary.Vi (Number (pos 3))) Nil)))) ∷ []) }); post = (record { opened = []; facts = ([]); locals = []; items = ((Data (Number (pos 32)) (Var 0 sort.Val) (Of2 binary.Cons (Of unary.Vi (Var 1 sort.Int)) Nil)) ∷ (Data (Number (pos 64)) (Var 2 sort.Val) (Of2 binary.Cons (Of unary.Vi (Var 3 sort.Int)) (Of2 binary.Cons (Var 4 sort.Val) (Of2 binary.Cons (Of unary.Vi (Number (pos 3))) Nil)))) ∷ []) }) }) ∷ (record { is_void = false; name = name_main; params = ([]); vars = []; pre = (record { opened = []; facts = ([]); locals = []; items = ([]) }); post = (record { opened = []; facts = ((Rel relation.Eq (Var 0 sort.Val) (Of unary.Vi (Number (pos 0)))) ∷ []); locals = []; items = ([]) }) }) ∷ []) }) (record { is_void = true; name = name_f; params = (name_p00 ∷ name_s1 ∷ name_u2 ∷ []); vars = ((name_v0, sort.Val) ∷ (name_o0, sort.Int) ∷ (name_w1, sort.Val) ∷ (name_h1, sort.Int) ∷ (name_q1, sort.Val) ∷ (name_b2, sort.Int) ∷ []); pre = (record { opened = []; facts = ((Rel relation.Le (Number (pos 0)) (Var 1 sort.Int)) ∷ (Rel relation.Le (Var 1 sort.Int) (Number (pos 20))) ∷ (Rel relation.Le (Number (pos 0)) (Var 3 sort.Int)) ∷ (Rel relation.Le (Var 3 sort.Int) (Number (pos 20))) ∷ (Rel relation.Le (Number (pos 0)) (Var 5 sort.Int)) ∷ (Rel relation.Le (Var 5 sort.Int) (Number (pos 31))) ∷ []); locals = ((name_p00, (Var 0 sort.Val)) ∷ (name_s1, (Var 2 sort.Val)) ∷ (name_u2, (Of unary.Vi (Var 5 sort.Int))) ∷ []); items = ((Data (Number (pos 32)) (Var 0 sort.Val) (Of2 binary.Cons (Of unary.Vi (Var 1 sort.Int)) Nil)) ∷ (Data (Number (pos 64)) (Var 2 sort.Val) (Of2 binary.Cons (Of unary.Vi (Var 3 sort.Int)) (Of2 binary.Cons (Var 4 sort.Val) (Of2 binary.Cons (Of unary.Vi (Number (pos 3))) Nil)))) ∷ []) }); post = (record { opened = []; facts = ([]); locals = []; items = ((Data (Number (pos 32)) (Var 0 sort.Val) (Of2 binary.Cons (Of unary.Vi (Var 1 sort.Int)) Nil)) ∷ (Data (Number (pos 64)) (Var 2 sort.Val) (Of2 binary.Cons (Of unary.Vi (Var 3 sort.Int)) (Of2 binary.Cons (Var 4 sort.Val) (Of2 binary.Cons (Of unary.Vi (Number (pos 3))) Nil)))) ∷ []) }) }) (record { temps = (name_p00 ∷ name_s1 ∷ name_u2 ∷ name_s ∷ name_t ∷ name_i ∷ name_x1 ∷ name_d0 ∷ name_p1 ∷ name_q1 ∷ []); body = (c.Then (c.Set 3 (c.Const 1)) (c.Then (c.Set 4 (c.Const 0)) (c.Then (c.Set 6 (c.Binary two.Add kind.Unsigned (c.Const 4294967295) (c.Const 3))) (c.Then (c.Load 3 (root.Temp 0) c.Here) c.End)))) }) (s.Then 1 (s.Set ([]) ([])) s.NoBlock (s.Then 2 (s.Set ([]) ([])) s.NoBlock (s.Then 3 (s.Set ([]) ([])) s.NoBlock (s.Then 4 (s.Load 0 ([]) ([])) s.NoBlock s.End)))) ≡ (RefusedAt 5 0 10)
unfolding computing
random_315 = refl

random_316 : body_verdict (record { predicates = ([]); specs = ((record { is_void = true; name = name_f; params = (name_p00 ∷ name_s1 ∷ name_u2 ∷ []); vars = ((name_v0, sort.Val) ∷ (name_o0, sort.Int) ∷ (name_w1, sort.Val) ∷ (name_h1, sort.Int) ∷ (name_q1, sort.Val) ∷ (name_b2, sort.Int) ∷ []); pre = (record { opened = []; facts = ((Rel relation.Le (Number (pos 0)) (Var 1 sort.Int)) ∷ (Rel relation.Le (Var 1 sort.Int) (Number (pos 20))) ∷ (Rel relation.Le (Number (pos 0)) (Var 3 sort.Int)) ∷ (Rel relation.Le (Var 3 sort.Int) (Number (pos 20))) ∷ (Rel relation.Le (Number (pos 0)) (Var 5 sort.Int)) ∷ (Rel relation.Le (Var 5 sort.Int) (Number (pos 31))) ∷ []); locals = ((name_p00, (Var 0 sort.Val)) ∷ (name_s1, (Var 2 sort.Val)) ∷ (name_u2, (Of unary.Vi (Var 5 sort.Int))) ∷ []); items = ((Data (Number (pos 32)) (Var 0 sort.Val) (Of2 binary.Cons (Of unary.Vi (Var 1 sort.Int)) Nil)) ∷ (Data (Number (pos 64)) (Var 2 sort.Val) (Of2 binary.Cons (Of unary.Vi (Var 3 sort.Int)) (Of2 binary.Cons (Var 4 sort.Val) (Of2 binary.Cons (Of unary.Vi (Number (pos 3))) Nil)))) ∷ []) }); post = (record { opened = []; facts = ([]); locals = []; items = ((Data (Number (pos 32)) (Var 0 sort.Val) (Of2 binary.Cons (Of unary.Vi (Var 1 sort.Int)) Nil)) ∷ (Data (Number (pos 64)) (Var 2 sort.Val) (Of2 binary.Cons (Of unary.Vi (Var 3 sort.Int)) (Of2 binary.Cons (Var 4 sort.Val) (Of2 binary.Cons (Of unary.Vi (Number (pos 3))) Nil)))) ∷ []) }) }) ∷ (record { is_void = false; name = name_main; params = ([]); vars = []; pre = (record { opened = []; facts = ([]); locals = []; items = ([]) }); post = (record { opened = []; facts = ((Rel relation.Eq (Var 0 sort.Val) (Of unary.Vi (Number (pos 0)))) ∷ []); locals = []; items = ([]) }) }) ∷ []) }) (record { is_void = true; name = name_f; params = (name_p00 ∷ name_s1 ∷ name_u2 ∷ []); vars = ((name_v0, sort.Val) ∷ (name_o0, sort.Int) ∷ (name_w1, sort.Val) ∷ (name_h1, sort.Int) ∷ (name_q1, sort.Val) ∷ (name_b2, sort.Int) ∷ []); pre = (record { opened = []; facts = ((Rel relation.Le (Number (pos 0)) (Var 1 sort.Int)) ∷ (Rel relation.Le (Var 1 sort.Int) (Number (pos 20))) ∷ (Rel relation.Le (Number (pos 0)) (Var 3 sort.Int)) ∷ (Rel relation.Le (Var 3 sort.Int) (Number (pos 20))) ∷ (Rel relation.Le (Number (pos 0)) (Var 5 sort.Int)) ∷ (Rel relation.Le (Var 5 sort.Int) (Number (pos 31))) ∷ []); locals = ((name_p00, (Var 0 sort.Val)) ∷ (name_s1, (Var 2 sort.Val)) ∷ (name_u2, (Of unary.Vi (Var 5 sort.Int))) ∷ []); items = ((Data (Number (pos 32)) (Var 0 sort.Val) (Of2 binary.Cons (Of unary.Vi (Var 1 sort.Int)) Nil)) ∷ (Data (Number (pos 64)) (Var 2 sort.Val) (Of2 binary.Cons (Of unary.Vi (Var 3 sort.Int)) (Of2 binary.Cons (Var 4 sort.Val) (Of2 binary.Cons (Of unary.Vi (Number (pos 3))) Nil)))) ∷ []) }); post = (record { opened = []; facts = ([]); locals = []; items = ((Data (Number (pos 32)) (Var 0 sort.Val) (Of2 binary.Cons (Of unary.Vi (Var 1 sort.Int)) Nil)) ∷ (Data (Number (pos 64)) (Var 2 sort.Val) (Of2 binary.Cons (Of unary.Vi (Var 3 sort.Int)) (Of2 binary.Cons (Var 4 sort.Val) (Of2 binary.Cons (Of unary.Vi (Number (pos 3))) Nil)))) ∷ []) }) }) (record { temps = (name_p00 ∷ name_s1 ∷ name_u2 ∷ name_s ∷ name_t ∷ name_i ∷ name_x1 ∷ name_d0 ∷ name_p1 ∷ name_q1 ∷ []); body = (c.Then (c.Set 3 (c.Const 1)) (c.Then (c.Set 4 (c.Const 0)) (c.Then (c.Set 6 (c.Binary two.Add kind.Unsigned (c.Const 4294967295) (c.Const 3))) (c.Then (c.Load 3 (root.Temp 0) c.Here) c.End)))) }) (s.Then 1 (s.Set ([]) ([])) s.NoBlock (s.Then 2 (s.Set ([]) ([])) s.NoBlock (s.Then 3 (s.Continue ([]) ([])) s.NoBlock (s.Then 4 (s.Set ([]) ([])) s.NoBlock (s.Then 5 (s.Load 0 ([]) ([])) s.NoBlock (s.Then 6 (s.Fall ([]) ([])) s.NoBlock s.End)))))) ≡ (RefusedAt 3 8 1)
unfolding computing
random_316 = refl

random_317 : body_verdict (record { predicates = ([]); specs = ((record { is_void = true; name = name_f; params = (name_p00 ∷ name_s1 ∷ name_u2 ∷ []); vars = ((name_v0, sort.Val) ∷ (name_o0, sort.Int) ∷ (name_w1, sort.Val) ∷ (name_h1, sort.Int) ∷ (name_q1, sort.Val) ∷ (name_b2, sort.Int) ∷ []); pre = (record { opened = []; facts = ((Rel relation.Le (Number (pos 0)) (Var 1 sort.Int)) ∷ (Rel relation.Le (Var 1 sort.Int) (Number (pos 20))) ∷ (Rel relation.Le (Number (pos 0)) (Var 3 sort.Int)) ∷ (Rel relation.Le (Var 3 sort.Int) (Number (pos 20))) ∷ (Rel relation.Le (Number (pos 0)) (Var 5 sort.Int)) ∷ (Rel relation.Le (Var 5 sort.Int) (Number (pos 31))) ∷ []); locals = ((name_p00, (Var 0 sort.Val)) ∷ (name_s1, (Var 2 sort.Val)) ∷ (name_u2, (Of unary.Vi (Var 5 sort.Int))) ∷ []); items = ((Data (Number (pos 32)) (Var 0 sort.Val) (Of2 binary.Cons (Of unary.Vi (Var 1 sort.Int)) Nil)) ∷ (Data (Number (pos 64)) (Var 2 sort.Val) (Of2 binary.Cons (Of unary.Vi (Var 3 sort.Int)) (Of2 binary.Cons (Var 4 sort.Val) (Of2 binary.Cons (Of unary.Vi (Number (pos 3))) Nil)))) ∷ []) }); post = (record { opened = []; facts = ([]); locals = []; items = ((Data (Number (pos 32)) (Var 0 sort.Val) (Of2 binary.Cons (Of unary.Vi (Var 1 sort.Int)) Nil)) ∷ (Data (Number (pos 64)) (Var 2 sort.Val) (Of2 binary.Cons (Of unary.Vi (Var 3 sort.Int)) (Of2 binary.Cons (Var 4 sort.Val) (Of2 binary.Cons (Of unary.Vi (Number (pos 3))) Nil)))) ∷ []) }) }) ∷ (record { is_void = false; name = name_main; params = ([]); vars = []; pre = (record { opened = []; facts = ([]); locals = []; items = ([]) }); post = (record { opened = []; facts = ((Rel relation.Eq (Var 0 sort.Val) (Of unary.Vi (Number (pos 0)))) ∷ []); locals = []; items = ([]) }) }) ∷ []) }) (record { is_void = true; name = name_f; params = (name_p00 ∷ name_s1 ∷ name_u2 ∷ []); vars = ((name_v0, sort.Val) ∷ (name_o0, sort.Int) ∷ (name_w1, sort.Val) ∷ (name_h1, sort.Int) ∷ (name_q1, sort.Val) ∷ (name_b2, sort.Int) ∷ []); pre = (record { opened = []; facts = ((Rel relation.Le (Number (pos 0)) (Var 1 sort.Int)) ∷ (Rel relation.Le (Var 1 sort.Int) (Number (pos 20))) ∷ (Rel relation.Le (Number (pos 0)) (Var 3 sort.Int)) ∷ (Rel relation.Le (Var 3 sort.Int) (Number (pos 20))) ∷ (Rel relation.Le (Number (pos 0)) (Var 5 sort.Int)) ∷ (Rel relation.Le (Var 5 sort.Int) (Number (pos 31))) ∷ []); locals = ((name_p00, (Var 0 sort.Val)) ∷ (name_s1, (Var 2 sort.Val)) ∷ (name_u2, (Of unary.Vi (Var 5 sort.Int))) ∷ []); items = ((Data (Number (pos 32)) (Var 0 sort.Val) (Of2 binary.Cons (Of unary.Vi (Var 1 sort.Int)) Nil)) ∷ (Data (Number (pos 64)) (Var 2 sort.Val) (Of2 binary.Cons (Of unary.Vi (Var 3 sort.Int)) (Of2 binary.Cons (Var 4 sort.Val) (Of2 binary.Cons (Of unary.Vi (Number (pos 3))) Nil)))) ∷ []) }); post = (record { opened = []; facts = ([]); locals = []; items = ((Data (Number (pos 32)) (Var 0 sort.Val) (Of2 binary.Cons (Of unary.Vi (Var 1 sort.Int)) Nil)) ∷ (Data (Number (pos 64)) (Var 2 sort.Val) (Of2 binary.Cons (Of unary.Vi (Var 3 sort.Int)) (Of2 binary.Cons (Var 4 sort.Val) (Of2 binary.Cons (Of unary.Vi (Number (pos 3))) Nil)))) ∷ []) }) }) (record { temps = (name_p00 ∷ name_s1 ∷ name_u2 ∷ name_s ∷ name_t ∷ name_i ∷ name_x1 ∷ name_d0 ∷ name_p1 ∷ name_q1 ∷ []); body = (c.Then (c.Set 3 (c.Const 1)) (c.Then (c.Set 4 (c.Const 0)) (c.Then (c.Set 6 (c.Binary two.Add kind.Unsigned (c.Const 4294967295) (c.Const 3))) (c.Then (c.Load 3 (root.Temp 0) c.Here) c.End)))) }) (s.Then 1 (s.Set ([]) ([])) s.NoBlock (s.Then 2 (s.Set ([]) ([])) s.NoBlock (s.Then 3 (s.Set ([]) ([])) s.NoBlock (s.Then 4 (s.Set ([]) ([])) s.NoBlock (s.Then 5 (s.Load 0 ([]) ([])) s.NoBlock (s.Then 6 (s.Fall ([]) ([])) s.NoBlock s.End)))))) ≡ (RefusedAt 4 2 1)
unfolding computing
random_317 = refl

random_318 : body_verdict (record { predicates = ([]); specs = ((record { is_void = true; name = name_f; params = (name_p00 ∷ name_s1 ∷ name_u2 ∷ []); vars = ((name_v0, sort.Val) ∷ (name_o0, sort.Int) ∷ (name_w1, sort.Val) ∷ (name_h1, sort.Int) ∷ (name_q1, sort.Val) ∷ (name_b2, sort.Int) ∷ []); pre = (record { opened = []; facts = ((Rel relation.Le (Number (pos 0)) (Var 1 sort.Int)) ∷ (Rel relation.Le (Var 1 sort.Int) (Number (pos 20))) ∷ (Rel relation.Le (Number (pos 0)) (Var 3 sort.Int)) ∷ (Rel relation.Le (Var 3 sort.Int) (Number (pos 20))) ∷ (Rel relation.Le (Number (pos 0)) (Var 5 sort.Int)) ∷ (Rel relation.Le (Var 5 sort.Int) (Number (pos 31))) ∷ []); locals = ((name_p00, (Var 0 sort.Val)) ∷ (name_s1, (Var 2 sort.Val)) ∷ (name_u2, (Of unary.Vi (Var 5 sort.Int))) ∷ []); items = ((Data (Number (pos 32)) (Var 0 sort.Val) (Of2 binary.Cons (Of unary.Vi (Var 1 sort.Int)) Nil)) ∷ (Data (Number (pos 64)) (Var 2 sort.Val) (Of2 binary.Cons (Of unary.Vi (Var 3 sort.Int)) (Of2 binary.Cons (Var 4 sort.Val) (Of2 binary.Cons (Of unary.Vi (Number (pos 3))) Nil)))) ∷ []) }); post = (record { opened = []; facts = ([]); locals = []; items = ((Data (Number (pos 32)) (Var 0 sort.Val) (Of2 binary.Cons (Of unary.Vi (Var 1 sort.Int)) Nil)) ∷ (Data (Number (pos 64)) (Var 2 sort.Val) (Of2 binary.Cons (Of unary.Vi (Var 3 sort.Int)) (Of2 binary.Cons (Var 4 sort.Val) (Of2 binary.Cons (Of unary.Vi (Number (pos 3))) Nil)))) ∷ []) }) }) ∷ (record { is_void = false; name = name_main; params = ([]); vars = []; pre = (record { opened = []; facts = ([]); locals = []; items = ([]) }); post = (record { opened = []; facts = ((Rel relation.Eq (Var 0 sort.Val) (Of unary.Vi (Number (pos 0)))) ∷ []); locals = []; items = ([]) }) }) ∷ []) }) (record { is_void = true; name = name_f; params = (name_p00 ∷ name_s1 ∷ name_u2 ∷ []); vars = ((name_v0, sort.Val) ∷ (name_o0, sort.Int) ∷ (name_w1, sort.Val) ∷ (name_h1, sort.Int) ∷ (name_q1, sort.Val) ∷ (name_b2, sort.Int) ∷ []); pre = (record { opened = []; facts = ((Rel relation.Le (Number (pos 0)) (Var 1 sort.Int)) ∷ (Rel relation.Le (Var 1 sort.Int) (Number (pos 20))) ∷ (Rel relation.Le (Number (pos 0)) (Var 3 sort.Int)) ∷ (Rel relation.Le (Var 3 sort.Int) (Number (pos 20))) ∷ (Rel relation.Le (Number (pos 0)) (Var 5 sort.Int)) ∷ (Rel relation.Le (Var 5 sort.Int) (Number (pos 31))) ∷ []); locals = ((name_p00, (Var 0 sort.Val)) ∷ (name_s1, (Var 2 sort.Val)) ∷ (name_u2, (Of unary.Vi (Var 5 sort.Int))) ∷ []); items = ((Data (Number (pos 32)) (Var 0 sort.Val) (Of2 binary.Cons (Of unary.Vi (Var 1 sort.Int)) Nil)) ∷ (Data (Number (pos 64)) (Var 2 sort.Val) (Of2 binary.Cons (Of unary.Vi (Var 3 sort.Int)) (Of2 binary.Cons (Var 4 sort.Val) (Of2 binary.Cons (Of unary.Vi (Number (pos 3))) Nil)))) ∷ []) }); post = (record { opened = []; facts = ([]); locals = []; items = ((Data (Number (pos 32)) (Var 0 sort.Val) (Of2 binary.Cons (Of unary.Vi (Var 1 sort.Int)) Nil)) ∷ (Data (Number (pos 64)) (Var 2 sort.Val) (Of2 binary.Cons (Of unary.Vi (Var 3 sort.Int)) (Of2 binary.Cons (Var 4 sort.Val) (Of2 binary.Cons (Of unary.Vi (Number (pos 3))) Nil)))) ∷ []) }) }) (record { temps = (name_p00 ∷ name_s1 ∷ name_u2 ∷ name_s ∷ name_t ∷ name_i ∷ name_x1 ∷ name_d0 ∷ name_p1 ∷ name_q1 ∷ []); body = (c.Then (c.Set 3 (c.Const 1)) (c.Then (c.Set 4 (c.Const 0)) (c.Then (c.Set 6 (c.Binary two.Add kind.Unsigned (c.Const 4294967295) (c.Const 3))) (c.Then (c.Load 3 (root.Temp 0) c.Here) c.End)))) }) (s.Then 1 (s.Set ([]) ([])) s.NoBlock (s.Then 2 (s.Set ([]) ([])) s.NoBlock (s.Then 3 (s.Set ([]) ([])) s.NoBlock (s.Then 4 (s.Load 0 ([]) ([])) s.NoBlock (s.Then 5 (s.Fall (Undef ∷ []) ([])) s.NoBlock s.End))))) ≡ (RefusedAt 5 10 1)
unfolding computing
random_318 = refl

random_319 : body_verdict (record { predicates = ([]); specs = ((record { is_void = true; name = name_f; params = (name_p00 ∷ name_s1 ∷ name_u2 ∷ []); vars = ((name_v0, sort.Val) ∷ (name_o0, sort.Int) ∷ (name_w1, sort.Val) ∷ (name_h1, sort.Int) ∷ (name_q1, sort.Val) ∷ (name_b2, sort.Int) ∷ []); pre = (record { opened = []; facts = ((Rel relation.Le (Number (pos 0)) (Var 1 sort.Int)) ∷ (Rel relation.Le (Var 1 sort.Int) (Number (pos 20))) ∷ (Rel relation.Le (Number (pos 0)) (Var 3 sort.Int)) ∷ (Rel relation.Le (Var 3 sort.Int) (Number (pos 20))) ∷ (Rel relation.Le (Number (pos 0)) (Var 5 sort.Int)) ∷ (Rel relation.Le (Var 5 sort.Int) (Number (pos 31))) ∷ []); locals = ((name_p00, (Var 0 sort.Val)) ∷ (name_s1, (Var 2 sort.Val)) ∷ (name_u2, (Of unary.Vi (Var 5 sort.Int))) ∷ []); items = ((Data (Number (pos 32)) (Var 0 sort.Val) (Of2 binary.Cons (Of unary.Vi (Var 1 sort.Int)) Nil)) ∷ (Data (Number (pos 64)) (Var 2 sort.Val) (Of2 binary.Cons (Of unary.Vi (Var 3 sort.Int)) (Of2 binary.Cons (Var 4 sort.Val) (Of2 binary.Cons (Of unary.Vi (Number (pos 3))) Nil)))) ∷ []) }); post = (record { opened = []; facts = ([]); locals = []; items = ((Data (Number (pos 32)) (Var 0 sort.Val) (Of2 binary.Cons (Of unary.Vi (Var 1 sort.Int)) Nil)) ∷ (Data (Number (pos 64)) (Var 2 sort.Val) (Of2 binary.Cons (Of unary.Vi (Var 3 sort.Int)) (Of2 binary.Cons (Var 4 sort.Val) (Of2 binary.Cons (Of unary.Vi (Number (pos 3))) Nil)))) ∷ []) }) }) ∷ (record { is_void = false; name = name_main; params = ([]); vars = []; pre = (record { opened = []; facts = ([]); locals = []; items = ([]) }); post = (record { opened = []; facts = ((Rel relation.Eq (Var 0 sort.Val) (Of unary.Vi (Number (pos 0)))) ∷ []); locals = []; items = ([]) }) }) ∷ []) }) (record { is_void = true; name = name_f; params = (name_p00 ∷ name_s1 ∷ name_u2 ∷ []); vars = ((name_v0, sort.Val) ∷ (name_o0, sort.Int) ∷ (name_w1, sort.Val) ∷ (name_h1, sort.Int) ∷ (name_q1, sort.Val) ∷ (name_b2, sort.Int) ∷ []); pre = (record { opened = []; facts = ((Rel relation.Le (Number (pos 0)) (Var 1 sort.Int)) ∷ (Rel relation.Le (Var 1 sort.Int) (Number (pos 20))) ∷ (Rel relation.Le (Number (pos 0)) (Var 3 sort.Int)) ∷ (Rel relation.Le (Var 3 sort.Int) (Number (pos 20))) ∷ (Rel relation.Le (Number (pos 0)) (Var 5 sort.Int)) ∷ (Rel relation.Le (Var 5 sort.Int) (Number (pos 31))) ∷ []); locals = ((name_p00, (Var 0 sort.Val)) ∷ (name_s1, (Var 2 sort.Val)) ∷ (name_u2, (Of unary.Vi (Var 5 sort.Int))) ∷ []); items = ((Data (Number (pos 32)) (Var 0 sort.Val) (Of2 binary.Cons (Of unary.Vi (Var 1 sort.Int)) Nil)) ∷ (Data (Number (pos 64)) (Var 2 sort.Val) (Of2 binary.Cons (Of unary.Vi (Var 3 sort.Int)) (Of2 binary.Cons (Var 4 sort.Val) (Of2 binary.Cons (Of unary.Vi (Number (pos 3))) Nil)))) ∷ []) }); post = (record { opened = []; facts = ([]); locals = []; items = ((Data (Number (pos 32)) (Var 0 sort.Val) (Of2 binary.Cons (Of unary.Vi (Var 1 sort.Int)) Nil)) ∷ (Data (Number (pos 64)) (Var 2 sort.Val) (Of2 binary.Cons (Of unary.Vi (Var 3 sort.Int)) (Of2 binary.Cons (Var 4 sort.Val) (Of2 binary.Cons (Of unary.Vi (Number (pos 3))) Nil)))) ∷ []) }) }) (record { temps = (name_p00 ∷ name_s1 ∷ name_u2 ∷ name_s ∷ name_t ∷ name_i ∷ name_x1 ∷ name_d0 ∷ name_p1 ∷ name_q1 ∷ []); body = (c.Then (c.Set 3 (c.Const 1)) (c.Then (c.Set 4 (c.Const 0)) (c.Then (c.Set 6 (c.Binary two.Add kind.Unsigned (c.Const 4294967295) (c.Const 3))) (c.Then (c.Load 3 (root.Temp 0) c.Here) c.End)))) }) (s.Then 1 (s.Set ([]) ([])) s.NoBlock (s.Then 2 (s.Set ([]) ([])) s.NoBlock (s.Then 3 (s.Set ([]) ([])) s.NoBlock (s.Then 4 (s.Load 2147483647 ([]) ([])) s.NoBlock (s.Then 5 (s.Fall ([]) ([])) s.NoBlock s.End))))) ≡ (RefusedAt 4 3 1)
unfolding computing
random_319 = refl

random_320 : body_verdict (record { predicates = ([]); specs = ((record { is_void = true; name = name_f; params = (name_p00 ∷ name_s1 ∷ name_u2 ∷ []); vars = ((name_v0, sort.Val) ∷ (name_o0, sort.Int) ∷ (name_w1, sort.Val) ∷ (name_h1, sort.Int) ∷ (name_q1, sort.Val) ∷ (name_b2, sort.Int) ∷ []); pre = (record { opened = []; facts = ((Rel relation.Le (Number (pos 0)) (Var 1 sort.Int)) ∷ (Rel relation.Le (Var 1 sort.Int) (Number (pos 20))) ∷ (Rel relation.Le (Number (pos 0)) (Var 3 sort.Int)) ∷ (Rel relation.Le (Var 3 sort.Int) (Number (pos 20))) ∷ (Rel relation.Le (Number (pos 0)) (Var 5 sort.Int)) ∷ (Rel relation.Le (Var 5 sort.Int) (Number (pos 31))) ∷ []); locals = ((name_p00, (Var 0 sort.Val)) ∷ (name_s1, (Var 2 sort.Val)) ∷ (name_u2, (Of unary.Vi (Var 5 sort.Int))) ∷ []); items = ((Data (Number (pos 32)) (Var 0 sort.Val) (Of2 binary.Cons (Of unary.Vi (Var 1 sort.Int)) Nil)) ∷ (Data (Number (pos 64)) (Var 2 sort.Val) (Of2 binary.Cons (Of unary.Vi (Var 3 sort.Int)) (Of2 binary.Cons (Var 4 sort.Val) (Of2 binary.Cons (Of unary.Vi (Number (pos 3))) Nil)))) ∷ []) }); post = (record { opened = []; facts = ([]); locals = []; items = ((Data (Number (pos 32)) (Var 0 sort.Val) (Of2 binary.Cons (Of unary.Vi (Var 1 sort.Int)) Nil)) ∷ (Data (Number (pos 64)) (Var 2 sort.Val) (Of2 binary.Cons (Of unary.Vi (Var 3 sort.Int)) (Of2 binary.Cons (Var 4 sort.Val) (Of2 binary.Cons (Of unary.Vi (Number (pos 3))) Nil)))) ∷ []) }) }) ∷ (record { is_void = false; name = name_main; params = ([]); vars = []; pre = (record { opened = []; facts = ([]); locals = []; items = ([]) }); post = (record { opened = []; facts = ((Rel relation.Eq (Var 0 sort.Val) (Of unary.Vi (Number (pos 0)))) ∷ []); locals = []; items = ([]) }) }) ∷ []) }) (record { is_void = true; name = name_f; params = (name_p00 ∷ name_s1 ∷ name_u2 ∷ []); vars = ((name_v0, sort.Val) ∷ (name_o0, sort.Int) ∷ (name_w1, sort.Val) ∷ (name_h1, sort.Int) ∷ (name_q1, sort.Val) ∷ (name_b2, sort.Int) ∷ []); pre = (record { opened = []; facts = ((Rel relation.Le (Number (pos 0)) (Var 1 sort.Int)) ∷ (Rel relation.Le (Var 1 sort.Int) (Number (pos 20))) ∷ (Rel relation.Le (Number (pos 0)) (Var 3 sort.Int)) ∷ (Rel relation.Le (Var 3 sort.Int) (Number (pos 20))) ∷ (Rel relation.Le (Number (pos 0)) (Var 5 sort.Int)) ∷ (Rel relation.Le (Var 5 sort.Int) (Number (pos 31))) ∷ []); locals = ((name_p00, (Var 0 sort.Val)) ∷ (name_s1, (Var 2 sort.Val)) ∷ (name_u2, (Of unary.Vi (Var 5 sort.Int))) ∷ []); items = ((Data (Number (pos 32)) (Var 0 sort.Val) (Of2 binary.Cons (Of unary.Vi (Var 1 sort.Int)) Nil)) ∷ (Data (Number (pos 64)) (Var 2 sort.Val) (Of2 binary.Cons (Of unary.Vi (Var 3 sort.Int)) (Of2 binary.Cons (Var 4 sort.Val) (Of2 binary.Cons (Of unary.Vi (Number (pos 3))) Nil)))) ∷ []) }); post = (record { opened = []; facts = ([]); locals = []; items = ((Data (Number (pos 32)) (Var 0 sort.Val) (Of2 binary.Cons (Of unary.Vi (Var 1 sort.Int)) Nil)) ∷ (Data (Number (pos 64)) (Var 2 sort.Val) (Of2 binary.Cons (Of unary.Vi (Var 3 sort.Int)) (Of2 binary.Cons (Var 4 sort.Val) (Of2 binary.Cons (Of unary.Vi (Number (pos 3))) Nil)))) ∷ []) }) }) (record { temps = (name_p00 ∷ name_s1 ∷ name_u2 ∷ name_s ∷ name_t ∷ name_i ∷ name_x1 ∷ name_d0 ∷ name_p1 ∷ name_q1 ∷ []); body = (c.Then (c.Set 3 (c.Const 1)) (c.Then (c.Set 4 (c.Const 0)) (c.Then (c.Set 6 (c.Binary two.Add kind.Unsigned (c.Const 4294967295) (c.Const 3))) (c.Then (c.Load 3 (root.Temp 0) c.Here) c.End)))) }) (s.Then 1 (s.Set ([]) ([])) s.NoBlock (s.Then 2 (s.Unfold 0 (([]) ∷ [])) (s.WithBlock s.End s.NoBlock) (s.Then 3 (s.Set ([]) ([])) s.NoBlock (s.Then 4 (s.Load 0 ([]) ([])) s.NoBlock (s.Then 5 (s.Fall ([]) ([])) s.NoBlock s.End))))) ≡ (RefusedAt 2 22 1)
unfolding computing
random_320 = refl

random_321 : body_verdict (record { predicates = ([]); specs = ((record { is_void = true; name = name_f; params = (name_p00 ∷ name_s1 ∷ name_u2 ∷ []); vars = ((name_v0, sort.Val) ∷ (name_o0, sort.Int) ∷ (name_w1, sort.Val) ∷ (name_h1, sort.Int) ∷ (name_q1, sort.Val) ∷ (name_b2, sort.Int) ∷ []); pre = (record { opened = []; facts = ((Rel relation.Le (Number (pos 0)) (Var 1 sort.Int)) ∷ (Rel relation.Le (Var 1 sort.Int) (Number (pos 20))) ∷ (Rel relation.Le (Number (pos 0)) (Var 3 sort.Int)) ∷ (Rel relation.Le (Var 3 sort.Int) (Number (pos 20))) ∷ (Rel relation.Le (Number (pos 0)) (Var 5 sort.Int)) ∷ (Rel relation.Le (Var 5 sort.Int) (Number (pos 31))) ∷ []); locals = ((name_p00, (Var 0 sort.Val)) ∷ (name_s1, (Var 2 sort.Val)) ∷ (name_u2, (Of unary.Vi (Var 5 sort.Int))) ∷ []); items = ((Data (Number (pos 32)) (Var 0 sort.Val) (Of2 binary.Cons (Of unary.Vi (Var 1 sort.Int)) Nil)) ∷ (Data (Number (pos 64)) (Var 2 sort.Val) (Of2 binary.Cons (Of unary.Vi (Var 3 sort.Int)) (Of2 binary.Cons (Var 4 sort.Val) (Of2 binary.Cons (Of unary.Vi (Number (pos 3))) Nil)))) ∷ []) }); post = (record { opened = []; facts = ([]); locals = []; items = ((Data (Number (pos 32)) (Var 0 sort.Val) (Of2 binary.Cons (Of unary.Vi (Var 1 sort.Int)) Nil)) ∷ (Data (Number (pos 64)) (Var 2 sort.Val) (Of2 binary.Cons (Of unary.Vi (Var 3 sort.Int)) (Of2 binary.Cons (Var 4 sort.Val) (Of2 binary.Cons (Of unary.Vi (Number (pos 3))) Nil)))) ∷ []) }) }) ∷ (record { is_void = false; name = name_main; params = ([]); vars = []; pre = (record { opened = []; facts = ([]); locals = []; items = ([]) }); post = (record { opened = []; facts = ((Rel relation.Eq (Var 0 sort.Val) (Of unary.Vi (Number (pos 0)))) ∷ []); locals = []; items = ([]) }) }) ∷ []) }) (record { is_void = true; name = name_f; params = (name_p00 ∷ name_s1 ∷ name_u2 ∷ []); vars = ((name_v0, sort.Val) ∷ (name_o0, sort.Int) ∷ (name_w1, sort.Val) ∷ (name_h1, sort.Int) ∷ (name_q1, sort.Val) ∷ (name_b2, sort.Int) ∷ []); pre = (record { opened = []; facts = ((Rel relation.Le (Number (pos 0)) (Var 1 sort.Int)) ∷ (Rel relation.Le (Var 1 sort.Int) (Number (pos 20))) ∷ (Rel relation.Le (Number (pos 0)) (Var 3 sort.Int)) ∷ (Rel relation.Le (Var 3 sort.Int) (Number (pos 20))) ∷ (Rel relation.Le (Number (pos 0)) (Var 5 sort.Int)) ∷ (Rel relation.Le (Var 5 sort.Int) (Number (pos 31))) ∷ []); locals = ((name_p00, (Var 0 sort.Val)) ∷ (name_s1, (Var 2 sort.Val)) ∷ (name_u2, (Of unary.Vi (Var 5 sort.Int))) ∷ []); items = ((Data (Number (pos 32)) (Var 0 sort.Val) (Of2 binary.Cons (Of unary.Vi (Var 1 sort.Int)) Nil)) ∷ (Data (Number (pos 64)) (Var 2 sort.Val) (Of2 binary.Cons (Of unary.Vi (Var 3 sort.Int)) (Of2 binary.Cons (Var 4 sort.Val) (Of2 binary.Cons (Of unary.Vi (Number (pos 3))) Nil)))) ∷ []) }); post = (record { opened = []; facts = ([]); locals = []; items = ((Data (Number (pos 32)) (Var 0 sort.Val) (Of2 binary.Cons (Of unary.Vi (Var 1 sort.Int)) Nil)) ∷ (Data (Number (pos 64)) (Var 2 sort.Val) (Of2 binary.Cons (Of unary.Vi (Var 3 sort.Int)) (Of2 binary.Cons (Var 4 sort.Val) (Of2 binary.Cons (Of unary.Vi (Number (pos 3))) Nil)))) ∷ []) }) }) (record { temps = (name_p00 ∷ name_s1 ∷ name_u2 ∷ name_s ∷ name_t ∷ name_i ∷ name_x1 ∷ name_d0 ∷ name_p1 ∷ name_q1 ∷ []); body = (c.Then (c.Set 3 (c.Const 1)) (c.Then (c.Set 4 (c.Const 0)) (c.Then (c.Set 6 (c.Binary two.Add kind.Unsigned (c.Const 4294967295) (c.Const 3))) (c.Then (c.Load 3 (root.Temp 0) c.Here) c.End)))) }) (s.Then 1 (s.Absurd ([])) s.NoBlock (s.Then 2 (s.Set ([]) ([])) s.NoBlock (s.Then 3 (s.Set ([]) ([])) s.NoBlock (s.Then 4 (s.Load 0 ([]) ([])) s.NoBlock (s.Then 5 (s.Fall ([]) ([])) s.NoBlock s.End))))) ≡ (RefusedAt 1 24 3)
unfolding computing
random_321 = refl

random_322 : body_verdict (record { predicates = ([]); specs = ((record { is_void = true; name = name_f; params = (name_p00 ∷ name_s1 ∷ name_u2 ∷ []); vars = ((name_v0, sort.Val) ∷ (name_o0, sort.Int) ∷ (name_w1, sort.Val) ∷ (name_h1, sort.Int) ∷ (name_q1, sort.Val) ∷ (name_b2, sort.Int) ∷ []); pre = (record { opened = []; facts = ((Rel relation.Le (Number (pos 0)) (Var 1 sort.Int)) ∷ (Rel relation.Le (Var 1 sort.Int) (Number (pos 20))) ∷ (Rel relation.Le (Number (pos 0)) (Var 3 sort.Int)) ∷ (Rel relation.Le (Var 3 sort.Int) (Number (pos 20))) ∷ (Rel relation.Le (Number (pos 0)) (Var 5 sort.Int)) ∷ (Rel relation.Le (Var 5 sort.Int) (Number (pos 31))) ∷ []); locals = ((name_p00, (Var 0 sort.Val)) ∷ (name_s1, (Var 2 sort.Val)) ∷ (name_u2, (Of unary.Vi (Var 5 sort.Int))) ∷ []); items = ((Data (Number (pos 32)) (Var 0 sort.Val) (Of2 binary.Cons (Of unary.Vi (Var 1 sort.Int)) Nil)) ∷ (Data (Number (pos 64)) (Var 2 sort.Val) (Of2 binary.Cons (Of unary.Vi (Var 3 sort.Int)) (Of2 binary.Cons (Var 4 sort.Val) (Of2 binary.Cons (Of unary.Vi (Number (pos 3))) Nil)))) ∷ []) }); post = (record { opened = []; facts = ([]); locals = []; items = ((Data (Number (pos 32)) (Var 0 sort.Val) (Of2 binary.Cons (Of unary.Vi (Var 1 sort.Int)) Nil)) ∷ (Data (Number (pos 64)) (Var 2 sort.Val) (Of2 binary.Cons (Of unary.Vi (Var 3 sort.Int)) (Of2 binary.Cons (Var 4 sort.Val) (Of2 binary.Cons (Of unary.Vi (Number (pos 3))) Nil)))) ∷ []) }) }) ∷ (record { is_void = false; name = name_main; params = ([]); vars = []; pre = (record { opened = []; facts = ([]); locals = []; items = ([]) }); post = (record { opened = []; facts = ((Rel relation.Eq (Var 0 sort.Val) (Of unary.Vi (Number (pos 0)))) ∷ []); locals = []; items = ([]) }) }) ∷ []) }) (record { is_void = true; name = name_f; params = (name_p00 ∷ name_s1 ∷ name_u2 ∷ []); vars = ((name_v0, sort.Val) ∷ (name_o0, sort.Int) ∷ (name_w1, sort.Val) ∷ (name_h1, sort.Int) ∷ (name_q1, sort.Val) ∷ (name_b2, sort.Int) ∷ []); pre = (record { opened = []; facts = ((Rel relation.Le (Number (pos 0)) (Var 1 sort.Int)) ∷ (Rel relation.Le (Var 1 sort.Int) (Number (pos 20))) ∷ (Rel relation.Le (Number (pos 0)) (Var 3 sort.Int)) ∷ (Rel relation.Le (Var 3 sort.Int) (Number (pos 20))) ∷ (Rel relation.Le (Number (pos 0)) (Var 5 sort.Int)) ∷ (Rel relation.Le (Var 5 sort.Int) (Number (pos 31))) ∷ []); locals = ((name_p00, (Var 0 sort.Val)) ∷ (name_s1, (Var 2 sort.Val)) ∷ (name_u2, (Of unary.Vi (Var 5 sort.Int))) ∷ []); items = ((Data (Number (pos 32)) (Var 0 sort.Val) (Of2 binary.Cons (Of unary.Vi (Var 1 sort.Int)) Nil)) ∷ (Data (Number (pos 64)) (Var 2 sort.Val) (Of2 binary.Cons (Of unary.Vi (Var 3 sort.Int)) (Of2 binary.Cons (Var 4 sort.Val) (Of2 binary.Cons (Of unary.Vi (Number (pos 3))) Nil)))) ∷ []) }); post = (record { opened = []; facts = ([]); locals = []; items = ((Data (Number (pos 32)) (Var 0 sort.Val) (Of2 binary.Cons (Of unary.Vi (Var 1 sort.Int)) Nil)) ∷ (Data (Number (pos 64)) (Var 2 sort.Val) (Of2 binary.Cons (Of unary.Vi (Var 3 sort.Int)) (Of2 binary.Cons (Var 4 sort.Val) (Of2 binary.Cons (Of unary.Vi (Number (pos 3))) Nil)))) ∷ []) }) }) (record { temps = (name_p00 ∷ name_s1 ∷ name_u2 ∷ name_s ∷ name_t ∷ name_i ∷ name_x1 ∷ name_d0 ∷ name_p1 ∷ name_q1 ∷ []); body = (c.Then (c.Set 3 (c.Const 1)) (c.Then (c.Set 4 (c.Const 0)) (c.Then (c.Set 6 (c.Binary two.Add kind.Unsigned (c.Const 4294967295) (c.Const 3))) (c.Then (c.Load 3 (root.Temp 0) c.Here) c.End)))) }) (s.Then 1 (s.Set ([]) ([])) s.NoBlock (s.Then 2 (s.Set ([]) ([])) s.NoBlock (s.Then 3 (s.Set ([]) ([])) s.NoBlock (s.Then 4 (s.Load 64 ([]) ([])) s.NoBlock (s.Then 5 (s.Fall ([]) ([])) s.NoBlock s.End))))) ≡ (RefusedAt 4 3 1)
unfolding computing
random_322 = refl

random_323 : body_verdict (record { predicates = ([]); specs = ((record { is_void = true; name = name_f; params = ([]); vars = ((name_a, sort.Int) ∷ (name_b, sort.Int) ∷ (name_s, sort.Int) ∷ (name_c, sort.Int) ∷ (name_v, sort.Val) ∷ (name_w, sort.Val) ∷ (name_y, sort.Val) ∷ (name_l, sort.List) ∷ (name_m, sort.List) ∷ []); pre = (record { opened = []; facts = ((Rel relation.Eq (Var 7 sort.List) (Of2 binary.App (Var 7 sort.List) (Var 7 sort.List))) ∷ []); locals = []; items = ((Data (Number (pos 64)) (Var 4 sort.Val) (Var 7 sort.List)) ∷ []) }); post = (record { opened = []; facts = ([]); locals = []; items = ((Data (Number (pos 64)) (Var 4 sort.Val) (Var 7 sort.List)) ∷ []) }) }) ∷ []) }) (record { is_void = true; name = name_f; params = ([]); vars = ((name_a, sort.Int) ∷ (name_b, sort.Int) ∷ (name_s, sort.Int) ∷ (name_c, sort.Int) ∷ (name_v, sort.Val) ∷ (name_w, sort.Val) ∷ (name_y, sort.Val) ∷ (name_l, sort.List) ∷ (name_m, sort.List) ∷ []); pre = (record { opened = []; facts = ((Rel relation.Eq (Var 7 sort.List) (Of2 binary.App (Var 7 sort.List) (Var 7 sort.List))) ∷ []); locals = []; items = ((Data (Number (pos 64)) (Var 4 sort.Val) (Var 7 sort.List)) ∷ []) }); post = (record { opened = []; facts = ([]); locals = []; items = ((Data (Number (pos 64)) (Var 4 sort.Val) (Var 7 sort.List)) ∷ []) }) }) (record { temps = ([]); body = (c.Then (c.Return None) c.End) }) (s.Then 1 (s.Rewrite false 0 (occurrence.Item 0)) s.NoBlock (s.Then 2 (s.Rewrite false 0 (occurrence.Item 0)) s.NoBlock (s.Then 3 (s.Rewrite false 0 (occurrence.Item 0)) s.NoBlock (s.Then 4 (s.Rewrite false 0 (occurrence.Item 0)) s.NoBlock (s.Then 5 (s.Rewrite false 0 (occurrence.Item 0)) s.NoBlock (s.Then 6 (s.Rewrite false 0 (occurrence.Item 0)) s.NoBlock (s.Then 7 (s.Rewrite false 0 (occurrence.Item 0)) s.NoBlock (s.Then 8 (s.Rewrite false 0 (occurrence.Item 0)) s.NoBlock (s.Then 9 (s.Rewrite false 0 (occurrence.Item 0)) s.NoBlock (s.Then 10 (s.Rewrite false 0 (occurrence.Item 0)) s.NoBlock (s.Then 11 (s.Rewrite false 0 (occurrence.Item 0)) s.NoBlock (s.Then 12 (s.Rewrite false 0 (occurrence.Item 0)) s.NoBlock (s.Then 13 (s.Rewrite false 0 (occurrence.Item 0)) s.NoBlock (s.Then 14 (s.Rewrite false 0 (occurrence.Item 0)) s.NoBlock (s.Then 15 (s.Rewrite false 0 (occurrence.Item 0)) s.NoBlock (s.Then 16 (s.Return ([]) ([]) ([])) s.NoBlock s.End)))))))))))))))) ≡ (RefusedAt 15 0 12)
unfolding computing
random_323 = refl

random_324 : body_verdict (record { predicates = ((record { name = name_iv; args = ([]); cases = ((record { opened = (sort.Int ∷ []); facts = ((Rel relation.Le (Number (pos 0)) (Var 0 sort.Int)) ∷ (Rel relation.Le (Var 0 sort.Int) (Number (pos 50))) ∷ []); locals = []; items = ((Data (Number (pos 64)) (Global name_x) (Of2 binary.Cons (Of unary.Vi (Var 0 sort.Int)) Nil)) ∷ []) }) ∷ []) }) ∷ []); specs = ((record { is_void = false; name = name_main; params = ([]); vars = []; pre = (record { opened = []; facts = ([]); locals = []; items = ((Data (Number (pos 64)) (Global name_arr) (Of2 binary.Cons (Of unary.Vi (Number (pos 1))) (Of2 binary.Cons (Of unary.Vi (Number (pos 2))) (Of2 binary.Cons (Of unary.Vi (Number (pos 0))) (Of2 binary.Cons (Of unary.Vi (Number (pos 0))) Nil))))) ∷ (Data (Number (pos 64)) (Global name_x) (Of2 binary.Cons (Of unary.Vi (Number (pos 3))) Nil)) ∷ (Data (Number (pos 64)) (Global name_l) (Of2 binary.Cons (Of unary.Vi (Number (pos 0))) Nil)) ∷ []) }); post = (record { opened = (sort.List ∷ sort.List ∷ sort.List ∷ []); facts = ([]); locals = []; items = ((Data (Number (pos 64)) (Global name_arr) (Var 1 sort.List)) ∷ (Data (Number (pos 64)) (Global name_x) (Var 2 sort.List)) ∷ (Data (Number (pos 64)) (Global name_l) (Var 3 sort.List)) ∷ []) }) }) ∷ []) }) (record { is_void = false; name = name_main; params = ([]); vars = []; pre = (record { opened = []; facts = ([]); locals = []; items = ((Data (Number (pos 64)) (Global name_arr) (Of2 binary.Cons (Of unary.Vi (Number (pos 1))) (Of2 binary.Cons (Of unary.Vi (Number (pos 2))) (Of2 binary.Cons (Of unary.Vi (Number (pos 0))) (Of2 binary.Cons (Of unary.Vi (Number (pos 0))) Nil))))) ∷ (Data (Number (pos 64)) (Global name_x) (Of2 binary.Cons (Of unary.Vi (Number (pos 3))) Nil)) ∷ (Data (Number (pos 64)) (Global name_l) (Of2 binary.Cons (Of unary.Vi (Number (pos 0))) Nil)) ∷ []) }); post = (record { opened = (sort.List ∷ sort.List ∷ sort.List ∷ []); facts = ([]); locals = []; items = ((Data (Number (pos 64)) (Global name_arr) (Var 1 sort.List)) ∷ (Data (Number (pos 64)) (Global name_x) (Var 2 sort.List)) ∷ (Data (Number (pos 64)) (Global name_l) (Var 3 sort.List)) ∷ []) }) }) (record { temps = (name_s ∷ name_t ∷ name_i ∷ name_x1 ∷ name_d0 ∷ name_p1 ∷ name_q1 ∷ []); body = (c.Then (c.Set 1 (c.Const 3)) (c.Then (c.OnLock lock.Make (c.Address (root.Global name_l 1) c.Here)) (c.Then (c.OnLock lock.Release (c.Address (root.Global name_l 1) c.Here)) (c.Then (c.Set 0 (c.Binary two.Eq kind.Signed (c.Const 2) (c.Const 1))) (c.Then (c.Set 3 (c.Unary one.Invert kind.Unsigned (c.Const 0))) (c.Then (c.Set 1 (c.Const 1)) (c.Then (c.Set 2 (c.Const 0)) (c.Then (c.Loop (c.Then (c.If (c.Nonzero kind.Signed (c.Binary two.Lt kind.Signed (c.Temp 2) (c.Const 3))) (c.Then (c.Store (root.Global name_arr 4) (c.Index kind.Signed (c.Temp 2) c.Here) (c.Temp 2)) (c.Then (c.Set 2 (c.Binary two.Add kind.Signed (c.Temp 2) (c.Const 1))) (c.Then c.Continue c.End))) (c.Then c.Break c.End)) c.End)) (c.Then (c.Set 0 (c.Binary two.Lt kind.Signed (c.Const 2) (c.Const 2))) (c.Then (c.Set 0 (c.Binary two.Add kind.Signed (c.Temp 2) (c.Const 1))) (c.Then (c.OnLock lock.Acquire (c.Address (root.Global name_l 1) c.Here)) (c.Then (c.OnLock lock.Free (c.Address (root.Global name_l 1) c.Here)) (c.Then (c.Return (Some (c.Const 7))) c.End))))))))))))) }) (s.Then 1 (s.Set ([]) ([])) s.NoBlock (s.Then 2 (s.MakeLock 2 (record { name = name_iv; args = ([]) }) ([]) ([])) s.NoBlock (s.Then 3 (s.Fold name_iv 0 ([]) ((Number (pos 3)) ∷ []) ([])) s.NoBlock (s.Then 4 (s.Release 2 3 ([])) s.NoBlock (s.Then 5 (s.Set ([]) ([])) s.NoBlock (s.Then 6 (s.Set ([]) ([])) s.NoBlock (s.Then 7 (s.Set ([]) ([])) s.NoBlock (s.Then 8 (s.Set ([]) ([])) s.NoBlock (s.Then 9 (s.While (record { opened = (sort.Int ∷ sort.List ∷ []); facts = ((Rel relation.Le (Number (pos 0)) (Var 0 sort.Int)) ∷ (Rel relation.Le (Var 0 sort.Int) (Number (pos 3))) ∷ (Rel relation.Eq (Of unary.Len (Var 1 sort.List)) (Number (pos 4))) ∷ []); locals = ((name_s, (Of unary.Vi (Number (pos 0)))) ∷ (name_t, (Of unary.Vi (Number (pos 1)))) ∷ (name_i, (Of unary.Vi (Var 0 sort.Int))) ∷ (name_x1, (Of unary.Vi (Number (pos 4294967295)))) ∷ []); items = ((Data (Number (pos 64)) (Global name_arr) (Var 1 sort.List)) ∷ (Lock (Number (pos 64)) (Global name_l) (record { name = name_iv; args = ([]) })) ∷ []) }) (record { opened = (sort.Int ∷ sort.List ∷ []); facts = ((Rel relation.Le (Number (pos 0)) (Var 0 sort.Int)) ∷ (Rel relation.Le (Var 0 sort.Int) (Number (pos 3))) ∷ (Rel relation.Eq (Of unary.Len (Var 1 sort.List)) (Number (pos 4))) ∷ (Rel relation.Le (Number (pos 3)) (Var 0 sort.Int)) ∷ []); locals = ((name_s, (Of unary.Vi (Number (pos 0)))) ∷ (name_t, (Of unary.Vi (Number (pos 1)))) ∷ (name_i, (Of unary.Vi (Var 0 sort.Int))) ∷ (name_x1, (Of unary.Vi (Number (pos 4294967295)))) ∷ []); items = ((Data (Number (pos 64)) (Global name_arr) (Var 1 sort.List)) ∷ (Lock (Number (pos 64)) (Global name_l) (record { name = name_iv; args = ([]) })) ∷ []) }) (name_k3 ∷ name_k4 ∷ []) ([]) (name_k1 ∷ name_k2 ∷ [])) (s.WithBlock (s.Then 10 (s.Meet ((Number (pos 0)) ∷ (Of2 binary.Cons (Of unary.Vi (Number (pos 1))) (Of2 binary.Cons (Of unary.Vi (Number (pos 2))) (Of2 binary.Cons (Of unary.Vi (Number (pos 0))) (Of2 binary.Cons (Of unary.Vi (Number (pos 0))) Nil)))) ∷ []) ([])) s.NoBlock s.End) (s.WithBlock (s.Then 11 (s.If ([]) ((record { lines = ((line.Comb (((pos 1), 0) ∷ ((pos 1), 4) ∷ [])) ∷ []) }) ∷ (record { lines = ((line.Comb (((pos 1), 1) ∷ ((pos 1), 4) ∷ [])) ∷ []) }) ∷ []) ([]) ([])) (s.WithBlock (s.Then 12 (s.Store 0 ([]) ((record { lines = ((line.Comb (((pos 1), 0) ∷ ((pos 1), 5) ∷ [])) ∷ []) }) ∷ (record { lines = ((line.Comb (((pos 1), 1) ∷ ((pos 1), 5) ∷ [])) ∷ []) }) ∷ (record { lines = ((line.Comb (((pos 1), 1) ∷ ((pos 1), 3) ∷ ((pos 1), 5) ∷ [])) ∷ []) }) ∷ [])) s.NoBlock (s.Then 13 (s.Law name_len_upd ((Named name_k2) ∷ (Named name_k1) ∷ (Of unary.Vi (Named name_k1)) ∷ []) ([])) s.NoBlock (s.Then 14 (s.Set ([]) ((record { lines = ((line.Comb (((pos 1), 0) ∷ ((pos 1), 7) ∷ [])) ∷ []) }) ∷ (record { lines = ((line.Comb (((pos 1), 1) ∷ ((pos 1), 7) ∷ [])) ∷ []) }) ∷ (record { lines = ((line.Comb (((pos 1), 0) ∷ ((pos 1), 7) ∷ [])) ∷ []) }) ∷ (record { lines = ((line.Comb (((pos 1), 1) ∷ ((pos 1), 7) ∷ [])) ∷ []) }) ∷ [])) s.NoBlock (s.Then 15 (s.Continue ((Of2 binary.Add (Named name_k1) (Number (pos 1))) ∷ (Of3 ternary.Upd (Named name_k2) (Named name_k1) (Of unary.Vi (Named name_k1))) ∷ []) ((record { lines = ((line.Comb (((pos 1), 0) ∷ ((pos 1), 7) ∷ [])) ∷ []) }) ∷ (record { lines = ((line.Comb (((pos 1), 5) ∷ ((pos 1), 2) ∷ ((pos 1), 7) ∷ [])) ∷ []) }) ∷ (record { lines = ((line.Comb (((pos 1), 6) ∷ ((pos 1), 3) ∷ ((pos 1), 7) ∷ [])) ∷ []) }) ∷ [])) s.NoBlock s.End)))) (s.WithBlock (s.Then 16 (s.Break ((Named name_k1) ∷ (Named name_k2) ∷ []) ([])) s.NoBlock s.End) s.NoBlock)) s.End) s.NoBlock)) (s.Then 17 (s.Set ([]) ([])) s.NoBlock (s.Then 18 (s.Set ([]) ((record { lines = ((line.Comb (((pos 1), 0) ∷ ((pos 1), 5) ∷ [])) ∷ []) }) ∷ (record { lines = ((line.Comb (((pos 1), 1) ∷ ((pos 1), 5) ∷ [])) ∷ []) }) ∷ (record { lines = ((line.Comb (((pos 1), 0) ∷ ((pos 1), 5) ∷ [])) ∷ []) }) ∷ (record { lines = ((line.Comb (((pos 1), 1) ∷ ((pos 1), 5) ∷ [])) ∷ []) }) ∷ [])) s.NoBlock (s.Then 19 (s.Acquire 1 ([])) s.NoBlock (s.Then 20 (s.Unfold 3 ((name_k5 ∷ []) ∷ [])) (s.WithBlock (s.Then 21 (s.Call ([]) ([]) ([]) (name_z ∷ [])) s.NoBlock (s.Then 22 (s.FreeLock 1 2 ([]) ([])) s.NoBlock (s.Then 23 (s.Return ((Named name_k4) ∷ (Of2 binary.Cons (Of unary.Vi (Named name_k5)) Nil) ∷ (Of2 binary.Cons Undef Nil) ∷ []) ([]) ([])) s.NoBlock s.End))) s.NoBlock) s.End))))))))))))) ≡ (RefusedAt 21 13 1)
unfolding computing
random_324 = refl

random_325 : body_verdict (record { predicates = ((record { name = name_iv; args = ([]); cases = ((record { opened = (sort.Int ∷ []); facts = ((Rel relation.Le (Number (pos 0)) (Var 0 sort.Int)) ∷ (Rel relation.Le (Var 0 sort.Int) (Number (pos 50))) ∷ []); locals = []; items = ((Data (Number (pos 64)) (Global name_x) (Of2 binary.Cons (Of unary.Vi (Var 0 sort.Int)) Nil)) ∷ []) }) ∷ []) }) ∷ []); specs = ((record { is_void = false; name = name_main; params = ([]); vars = []; pre = (record { opened = []; facts = ([]); locals = []; items = ((Data (Number (pos 64)) (Global name_arr) (Of2 binary.Cons (Of unary.Vi (Number (pos 1))) (Of2 binary.Cons (Of unary.Vi (Number (pos 2))) (Of2 binary.Cons (Of unary.Vi (Number (pos 0))) (Of2 binary.Cons (Of unary.Vi (Number (pos 0))) Nil))))) ∷ (Data (Number (pos 64)) (Global name_x) (Of2 binary.Cons (Of unary.Vi (Number (pos 3))) Nil)) ∷ (Data (Number (pos 64)) (Global name_l) (Of2 binary.Cons (Of unary.Vi (Number (pos 0))) Nil)) ∷ []) }); post = (record { opened = (sort.List ∷ sort.List ∷ sort.List ∷ []); facts = ([]); locals = []; items = ((Data (Number (pos 64)) (Global name_arr) (Var 1 sort.List)) ∷ (Data (Number (pos 64)) (Global name_x) (Var 2 sort.List)) ∷ (Data (Number (pos 64)) (Global name_l) (Var 3 sort.List)) ∷ []) }) }) ∷ []) }) (record { is_void = false; name = name_main; params = ([]); vars = []; pre = (record { opened = []; facts = ([]); locals = []; items = ((Data (Number (pos 64)) (Global name_arr) (Of2 binary.Cons (Of unary.Vi (Number (pos 1))) (Of2 binary.Cons (Of unary.Vi (Number (pos 2))) (Of2 binary.Cons (Of unary.Vi (Number (pos 0))) (Of2 binary.Cons (Of unary.Vi (Number (pos 0))) Nil))))) ∷ (Data (Number (pos 64)) (Global name_x) (Of2 binary.Cons (Of unary.Vi (Number (pos 3))) Nil)) ∷ (Data (Number (pos 64)) (Global name_l) (Of2 binary.Cons (Of unary.Vi (Number (pos 0))) Nil)) ∷ []) }); post = (record { opened = (sort.List ∷ sort.List ∷ sort.List ∷ []); facts = ([]); locals = []; items = ((Data (Number (pos 64)) (Global name_arr) (Var 1 sort.List)) ∷ (Data (Number (pos 64)) (Global name_x) (Var 2 sort.List)) ∷ (Data (Number (pos 64)) (Global name_l) (Var 3 sort.List)) ∷ []) }) }) (record { temps = (name_s ∷ name_t ∷ name_i ∷ name_x1 ∷ name_d0 ∷ name_p1 ∷ name_q1 ∷ []); body = (c.Then (c.Set 1 (c.Const 3)) (c.Then (c.OnLock lock.Make (c.Address (root.Global name_l 1) c.Here)) (c.Then (c.OnLock lock.Release (c.Address (root.Global name_l 1) c.Here)) (c.Then (c.Set 0 (c.Binary two.Eq kind.Signed (c.Const 2) (c.Const 1))) (c.Then (c.Set 3 (c.Unary one.Invert kind.Unsigned (c.Const 0))) (c.Then (c.Set 1 (c.Const 1)) (c.Then (c.Set 2 (c.Const 0)) (c.Then (c.Loop (c.Then (c.If (c.Nonzero kind.Signed (c.Binary two.Lt kind.Signed (c.Temp 2) (c.Const 3))) (c.Then (c.Store (root.Global name_arr 4) (c.Index kind.Signed (c.Temp 2) c.Here) (c.Temp 2)) (c.Then (c.Set 2 (c.Binary two.Add kind.Signed (c.Temp 2) (c.Const 1))) (c.Then c.Continue c.End))) (c.Then c.Break c.End)) c.End)) (c.Then (c.Set 0 (c.Binary two.Lt kind.Signed (c.Const 2) (c.Const 2))) (c.Then (c.Set 0 (c.Binary two.Add kind.Signed (c.Temp 2) (c.Const 1))) (c.Then (c.OnLock lock.Acquire (c.Address (root.Global name_l 1) c.Here)) (c.Then (c.OnLock lock.Free (c.Address (root.Global name_l 1) c.Here)) (c.Then (c.Return (Some (c.Const 7))) c.End))))))))))))) }) (s.Then 1 (s.Set ([]) ([])) s.NoBlock (s.Then 2 (s.MakeLock 2 (record { name = name_iv; args = ([]) }) ([]) ([])) s.NoBlock (s.Then 3 (s.Fold name_iv 0 ([]) ((Number (pos 3)) ∷ []) ([])) s.NoBlock (s.Then 4 (s.Release 2 3 ([])) s.NoBlock (s.Then 5 (s.Set ([]) ([])) s.NoBlock (s.Then 6 (s.Set ([]) ([])) s.NoBlock (s.Then 7 (s.Set ([]) ([])) s.NoBlock (s.Then 8 (s.Set ([]) ([])) s.NoBlock (s.Then 9 (s.While (record { opened = (sort.Int ∷ sort.List ∷ []); facts = ((Rel relation.Le (Number (pos 0)) (Var 0 sort.Int)) ∷ (Rel relation.Le (Var 0 sort.Int) (Number (pos 3))) ∷ (Rel relation.Eq (Of unary.Len (Var 1 sort.List)) (Number (pos 4))) ∷ []); locals = ((name_s, (Of unary.Vi (Number (pos 0)))) ∷ (name_t, (Of unary.Vi (Number (pos 1)))) ∷ (name_i, (Of unary.Vi (Var 0 sort.Int))) ∷ (name_x1, (Of unary.Vi (Number (pos 4294967295)))) ∷ []); items = ((Data (Number (pos 64)) (Global name_arr) (Var 1 sort.List)) ∷ (Lock (Number (pos 64)) (Global name_l) (record { name = name_iv; args = ([]) })) ∷ []) }) (record { opened = (sort.Int ∷ sort.List ∷ []); facts = ((Rel relation.Le (Number (pos 0)) (Var 0 sort.Int)) ∷ (Rel relation.Le (Var 0 sort.Int) (Number (pos 3))) ∷ (Rel relation.Eq (Of unary.Len (Var 1 sort.List)) (Number (pos 4))) ∷ (Rel relation.Le (Number (pos 3)) (Var 0 sort.Int)) ∷ []); locals = ((name_s, (Of unary.Vi (Number (pos 0)))) ∷ (name_t, (Of unary.Vi (Number (pos 1)))) ∷ (name_i, (Of unary.Vi (Var 0 sort.Int))) ∷ (name_x1, (Of unary.Vi (Number (pos 4294967295)))) ∷ []); items = ((Data (Number (pos 64)) (Global name_arr) (Var 1 sort.List)) ∷ (Lock (Number (pos 64)) (Global name_l) (record { name = name_iv; args = ([]) })) ∷ []) }) (name_k3 ∷ name_k4 ∷ []) ([]) (name_k1 ∷ name_k2 ∷ [])) (s.WithBlock (s.Then 10 (s.Meet ((Number (pos 0)) ∷ (Of2 binary.Cons (Of unary.Vi (Number (pos 1))) (Of2 binary.Cons (Of unary.Vi (Number (pos 2))) (Of2 binary.Cons (Of unary.Vi (Number (pos 0))) (Of2 binary.Cons (Of unary.Vi (Number (pos 0))) Nil)))) ∷ []) ([])) s.NoBlock s.End) (s.WithBlock (s.Then 11 (s.If ([]) ((record { lines = ((line.Comb (((pos 1), 0) ∷ ((pos 1), 4) ∷ [])) ∷ []) }) ∷ (record { lines = ((line.Comb (((pos 1), 1) ∷ ((pos 1), 4) ∷ [])) ∷ []) }) ∷ []) ([]) ([])) (s.WithBlock (s.Then 12 (s.Store 0 ([]) ((record { lines = ((line.Comb (((pos 1), 0) ∷ ((pos 1), 5) ∷ [])) ∷ []) }) ∷ (record { lines = ((line.Comb (((pos 1), 1) ∷ ((pos 1), 5) ∷ [])) ∷ []) }) ∷ (record { lines = ((line.Comb (((pos 1), 1) ∷ ((pos 1), 3) ∷ ((pos 1), 5) ∷ [])) ∷ []) }) ∷ [])) s.NoBlock (s.Then 13 (s.Law name_len_upd ((Named name_k2) ∷ (Named name_k1) ∷ (Of unary.Vi (Named name_k1)) ∷ []) ([])) s.NoBlock (s.Then 14 (s.Set ([]) ((record { lines = ((line.Comb (((pos 1), 0) ∷ ((pos 0), 7) ∷ [])) ∷ []) }) ∷ (record { lines = ((line.Comb (((pos 1), 1) ∷ ((pos 1), 7) ∷ [])) ∷ []) }) ∷ (record { lines = ((line.Comb (((pos 1), 0) ∷ ((pos 1), 7) ∷ [])) ∷ []) }) ∷ (record { lines = ((line.Comb (((pos 1), 1) ∷ ((pos 1), 7) ∷ [])) ∷ []) }) ∷ [])) s.NoBlock (s.Then 15 (s.Continue ((Of2 binary.Add (Named name_k1) (Number (pos 1))) ∷ (Of3 ternary.Upd (Named name_k2) (Named name_k1) (Of unary.Vi (Named name_k1))) ∷ []) ((record { lines = ((line.Comb (((pos 1), 0) ∷ ((pos 1), 7) ∷ [])) ∷ []) }) ∷ (record { lines = ((line.Comb (((pos 1), 5) ∷ ((pos 1), 2) ∷ ((pos 1), 7) ∷ [])) ∷ []) }) ∷ (record { lines = ((line.Comb (((pos 1), 6) ∷ ((pos 1), 3) ∷ ((pos 1), 7) ∷ [])) ∷ []) }) ∷ [])) s.NoBlock s.End)))) (s.WithBlock (s.Then 16 (s.Break ((Named name_k1) ∷ (Named name_k2) ∷ []) ([])) s.NoBlock s.End) s.NoBlock)) s.End) s.NoBlock)) (s.Then 17 (s.Set ([]) ([])) s.NoBlock (s.Then 18 (s.Set ([]) ((record { lines = ((line.Comb (((pos 1), 0) ∷ ((pos 1), 5) ∷ [])) ∷ []) }) ∷ (record { lines = ((line.Comb (((pos 1), 1) ∷ ((pos 1), 5) ∷ [])) ∷ []) }) ∷ (record { lines = ((line.Comb (((pos 1), 0) ∷ ((pos 1), 5) ∷ [])) ∷ []) }) ∷ (record { lines = ((line.Comb (((pos 1), 1) ∷ ((pos 1), 5) ∷ [])) ∷ []) }) ∷ [])) s.NoBlock (s.Then 19 (s.Acquire 1 ([])) s.NoBlock (s.Then 20 (s.Unfold 3 ((name_k5 ∷ []) ∷ [])) (s.WithBlock (s.Then 21 (s.FreeLock 1 2 ([]) ([])) s.NoBlock (s.Then 22 (s.Return ((Named name_k4) ∷ (Of2 binary.Cons (Of unary.Vi (Named name_k5)) Nil) ∷ (Of2 binary.Cons Undef Nil) ∷ []) ([]) ([])) s.NoBlock s.End)) s.NoBlock) s.End))))))))))))) ≡ (RefusedAt 14 2 3)
unfolding computing
random_325 = refl

random_326 : body_verdict (record { predicates = ((record { name = name_iv; args = ([]); cases = ((record { opened = (sort.Int ∷ []); facts = ((Rel relation.Le (Number (pos 0)) (Var 0 sort.Int)) ∷ (Rel relation.Le (Var 0 sort.Int) (Number (pos 50))) ∷ []); locals = []; items = ((Data (Number (pos 64)) (Global name_x) (Of2 binary.Cons (Of unary.Vi (Var 0 sort.Int)) Nil)) ∷ []) }) ∷ []) }) ∷ []); specs = ((record { is_void = false; name = name_main; params = ([]); vars = []; pre = (record { opened = []; facts = ([]); locals = []; items = ((Data (Number (pos 64)) (Global name_arr) (Of2 binary.Cons (Of unary.Vi (Number (pos 1))) (Of2 binary.Cons (Of unary.Vi (Number (pos 2))) (Of2 binary.Cons (Of unary.Vi (Number (pos 0))) (Of2 binary.Cons (Of unary.Vi (Number (pos 0))) Nil))))) ∷ (Data (Number (pos 64)) (Global name_x) (Of2 binary.Cons (Of unary.Vi (Number (pos 3))) Nil)) ∷ (Data (Number (pos 64)) (Global name_l) (Of2 binary.Cons (Of unary.Vi (Number (pos 0))) Nil)) ∷ []) }); post = (record { opened = (sort.List ∷ sort.List ∷ sort.List ∷ []); facts = ([]); locals = []; items = ((Data (Number (pos 64)) (Global name_arr) (Var 1 sort.List)) ∷ (Data (Number (pos 64)) (Global name_x) (Var 2 sort.List)) ∷ (Data (Number (pos 64)) (Global name_l) (Var 3 sort.List)) ∷ []) }) }) ∷ []) }) (record { is_void = false; name = name_main; params = ([]); vars = []; pre = (record { opened = []; facts = ([]); locals = []; items = ((Data (Number (pos 64)) (Global name_arr) (Of2 binary.Cons (Of unary.Vi (Number (pos 1))) (Of2 binary.Cons (Of unary.Vi (Number (pos 2))) (Of2 binary.Cons (Of unary.Vi (Number (pos 0))) (Of2 binary.Cons (Of unary.Vi (Number (pos 0))) Nil))))) ∷ (Data (Number (pos 64)) (Global name_x) (Of2 binary.Cons (Of unary.Vi (Number (pos 3))) Nil)) ∷ (Data (Number (pos 64)) (Global name_l) (Of2 binary.Cons (Of unary.Vi (Number (pos 0))) Nil)) ∷ []) }); post = (record { opened = (sort.List ∷ sort.List ∷ sort.List ∷ []); facts = ([]); locals = []; items = ((Data (Number (pos 64)) (Global name_arr) (Var 1 sort.List)) ∷ (Data (Number (pos 64)) (Global name_x) (Var 2 sort.List)) ∷ (Data (Number (pos 64)) (Global name_l) (Var 3 sort.List)) ∷ []) }) }) (record { temps = (name_s ∷ name_t ∷ name_i ∷ name_x1 ∷ name_d0 ∷ name_p1 ∷ name_q1 ∷ []); body = (c.Then (c.Set 1 (c.Const 3)) (c.Then (c.OnLock lock.Make (c.Address (root.Global name_l 1) c.Here)) (c.Then (c.OnLock lock.Release (c.Address (root.Global name_l 1) c.Here)) (c.Then (c.Set 0 (c.Binary two.Eq kind.Signed (c.Const 2) (c.Const 1))) (c.Then (c.Set 3 (c.Unary one.Invert kind.Unsigned (c.Const 0))) (c.Then (c.Set 1 (c.Const 1)) (c.Then (c.Set 2 (c.Const 0)) (c.Then (c.Loop (c.Then (c.If (c.Nonzero kind.Signed (c.Binary two.Lt kind.Signed (c.Temp 2) (c.Const 3))) (c.Then (c.Store (root.Global name_arr 4) (c.Index kind.Signed (c.Temp 2) c.Here) (c.Temp 2)) (c.Then (c.Set 2 (c.Binary two.Add kind.Signed (c.Temp 2) (c.Const 1))) (c.Then c.Continue c.End))) (c.Then c.Break c.End)) c.End)) (c.Then (c.Set 0 (c.Binary two.Lt kind.Signed (c.Const 2) (c.Const 2))) (c.Then (c.Set 0 (c.Binary two.Add kind.Signed (c.Temp 2) (c.Const 1))) (c.Then (c.OnLock lock.Acquire (c.Address (root.Global name_l 1) c.Here)) (c.Then (c.OnLock lock.Free (c.Address (root.Global name_l 1) c.Here)) (c.Then (c.Return (Some (c.Const 7))) c.End))))))))))))) }) (s.Then 1 (s.Set ([]) ([])) s.NoBlock (s.Then 2 (s.MakeLock 2 (record { name = name_iv; args = ([]) }) ([]) ([])) s.NoBlock (s.Then 3 (s.Fold name_iv 0 ([]) ((Number (pos 3)) ∷ []) ([])) s.NoBlock (s.Then 4 (s.Release 64 3 ([])) s.NoBlock (s.Then 5 (s.Set ([]) ([])) s.NoBlock (s.Then 6 (s.Set ([]) ([])) s.NoBlock (s.Then 7 (s.Set ([]) ([])) s.NoBlock (s.Then 8 (s.Set ([]) ([])) s.NoBlock (s.Then 9 (s.While (record { opened = (sort.Int ∷ sort.List ∷ []); facts = ((Rel relation.Le (Number (pos 0)) (Var 0 sort.Int)) ∷ (Rel relation.Le (Var 0 sort.Int) (Number (pos 3))) ∷ (Rel relation.Eq (Of unary.Len (Var 1 sort.List)) (Number (pos 4))) ∷ []); locals = ((name_s, (Of unary.Vi (Number (pos 0)))) ∷ (name_t, (Of unary.Vi (Number (pos 1)))) ∷ (name_i, (Of unary.Vi (Var 0 sort.Int))) ∷ (name_x1, (Of unary.Vi (Number (pos 4294967295)))) ∷ []); items = ((Data (Number (pos 64)) (Global name_arr) (Var 1 sort.List)) ∷ (Lock (Number (pos 64)) (Global name_l) (record { name = name_iv; args = ([]) })) ∷ []) }) (record { opened = (sort.Int ∷ sort.List ∷ []); facts = ((Rel relation.Le (Number (pos 0)) (Var 0 sort.Int)) ∷ (Rel relation.Le (Var 0 sort.Int) (Number (pos 3))) ∷ (Rel relation.Eq (Of unary.Len (Var 1 sort.List)) (Number (pos 4))) ∷ (Rel relation.Le (Number (pos 3)) (Var 0 sort.Int)) ∷ []); locals = ((name_s, (Of unary.Vi (Number (pos 0)))) ∷ (name_t, (Of unary.Vi (Number (pos 1)))) ∷ (name_i, (Of unary.Vi (Var 0 sort.Int))) ∷ (name_x1, (Of unary.Vi (Number (pos 4294967295)))) ∷ []); items = ((Data (Number (pos 64)) (Global name_arr) (Var 1 sort.List)) ∷ (Lock (Number (pos 64)) (Global name_l) (record { name = name_iv; args = ([]) })) ∷ []) }) (name_k3 ∷ name_k4 ∷ []) ([]) (name_k1 ∷ name_k2 ∷ [])) (s.WithBlock (s.Then 10 (s.Meet ((Number (pos 0)) ∷ (Of2 binary.Cons (Of unary.Vi (Number (pos 1))) (Of2 binary.Cons (Of unary.Vi (Number (pos 2))) (Of2 binary.Cons (Of unary.Vi (Number (pos 0))) (Of2 binary.Cons (Of unary.Vi (Number (pos 0))) Nil)))) ∷ []) ([])) s.NoBlock s.End) (s.WithBlock (s.Then 11 (s.If ([]) ((record { lines = ((line.Comb (((pos 1), 0) ∷ ((pos 1), 4) ∷ [])) ∷ []) }) ∷ (record { lines = ((line.Comb (((pos 1), 1) ∷ ((pos 1), 4) ∷ [])) ∷ []) }) ∷ []) ([]) ([])) (s.WithBlock (s.Then 12 (s.Store 0 ([]) ((record { lines = ((line.Comb (((pos 1), 0) ∷ ((pos 1), 5) ∷ [])) ∷ []) }) ∷ (record { lines = ((line.Comb (((pos 1), 1) ∷ ((pos 1), 5) ∷ [])) ∷ []) }) ∷ (record { lines = ((line.Comb (((pos 1), 1) ∷ ((pos 1), 3) ∷ ((pos 1), 5) ∷ [])) ∷ []) }) ∷ [])) s.NoBlock (s.Then 13 (s.Law name_len_upd ((Named name_k2) ∷ (Named name_k1) ∷ (Of unary.Vi (Named name_k1)) ∷ []) ([])) s.NoBlock (s.Then 14 (s.Set ([]) ((record { lines = ((line.Comb (((pos 1), 0) ∷ ((pos 1), 7) ∷ [])) ∷ []) }) ∷ (record { lines = ((line.Comb (((pos 1), 1) ∷ ((pos 1), 7) ∷ [])) ∷ []) }) ∷ (record { lines = ((line.Comb (((pos 1), 0) ∷ ((pos 1), 7) ∷ [])) ∷ []) }) ∷ (record { lines = ((line.Comb (((pos 1), 1) ∷ ((pos 1), 7) ∷ [])) ∷ []) }) ∷ [])) s.NoBlock (s.Then 15 (s.Continue ((Of2 binary.Add (Named name_k1) (Number (pos 1))) ∷ (Of3 ternary.Upd (Named name_k2) (Named name_k1) (Of unary.Vi (Named name_k1))) ∷ []) ((record { lines = ((line.Comb (((pos 1), 0) ∷ ((pos 1), 7) ∷ [])) ∷ []) }) ∷ (record { lines = ((line.Comb (((pos 1), 5) ∷ ((pos 1), 2) ∷ ((pos 1), 7) ∷ [])) ∷ []) }) ∷ (record { lines = ((line.Comb (((pos 1), 6) ∷ ((pos 1), 3) ∷ ((pos 1), 7) ∷ [])) ∷ []) }) ∷ [])) s.NoBlock s.End)))) (s.WithBlock (s.Then 16 (s.Break ((Named name_k1) ∷ (Named name_k2) ∷ []) ([])) s.NoBlock s.End) s.NoBlock)) s.End) s.NoBlock)) (s.Then 17 (s.Set ([]) ([])) s.NoBlock (s.Then 18 (s.Set ([]) ((record { lines = ((line.Comb (((pos 1), 0) ∷ ((pos 1), 5) ∷ [])) ∷ []) }) ∷ (record { lines = ((line.Comb (((pos 1), 1) ∷ ((pos 1), 5) ∷ [])) ∷ []) }) ∷ (record { lines = ((line.Comb (((pos 1), 0) ∷ ((pos 1), 5) ∷ [])) ∷ []) }) ∷ (record { lines = ((line.Comb (((pos 1), 1) ∷ ((pos 1), 5) ∷ [])) ∷ []) }) ∷ [])) s.NoBlock (s.Then 19 (s.Acquire 1 ([])) s.NoBlock (s.Then 20 (s.Unfold 3 ((name_k5 ∷ []) ∷ [])) (s.WithBlock (s.Then 21 (s.FreeLock 1 2 ([]) ([])) s.NoBlock (s.Then 22 (s.Return ((Named name_k4) ∷ (Of2 binary.Cons (Of unary.Vi (Named name_k5)) Nil) ∷ (Of2 binary.Cons Undef Nil) ∷ []) ([]) ([])) s.NoBlock s.End)) s.NoBlock) s.End))))))))))))) ≡ (RefusedAt 4 18 1)
unfolding computing
random_326 = refl

random_327 : body_verdict (record { predicates = ((record { name = name_iv; args = ([]); cases = ((record { opened = (sort.Int ∷ []); facts = ((Rel relation.Le (Number (pos 0)) (Var 0 sort.Int)) ∷ (Rel relation.Le (Var 0 sort.Int) (Number (pos 50))) ∷ []); locals = []; items = ((Data (Number (pos 64)) (Global name_x) (Of2 binary.Cons (Of unary.Vi (Var 0 sort.Int)) Nil)) ∷ []) }) ∷ []) }) ∷ []); specs = ((record { is_void = false; name = name_main; params = ([]); vars = []; pre = (record { opened = []; facts = ([]); locals = []; items = ((Data (Number (pos 64)) (Global name_arr) (Of2 binary.Cons (Of unary.Vi (Number (pos 1))) (Of2 binary.Cons (Of unary.Vi (Number (pos 2))) (Of2 binary.Cons (Of unary.Vi (Number (pos 0))) (Of2 binary.Cons (Of unary.Vi (Number (pos 0))) Nil))))) ∷ (Data (Number (pos 64)) (Global name_x) (Of2 binary.Cons (Of unary.Vi (Number (pos 3))) Nil)) ∷ (Data (Number (pos 64)) (Global name_l) (Of2 binary.Cons (Of unary.Vi (Number (pos 0))) Nil)) ∷ []) }); post = (record { opened = (sort.List ∷ sort.List ∷ sort.List ∷ []); facts = ([]); locals = []; items = ((Data (Number (pos 64)) (Global name_arr) (Var 1 sort.List)) ∷ (Data (Number (pos 64)) (Global name_x) (Var 2 sort.List)) ∷ (Data (Number (pos 64)) (Global name_l) (Var 3 sort.List)) ∷ []) }) }) ∷ []) }) (record { is_void = false; name = name_main; params = ([]); vars = []; pre = (record { opened = []; facts = ([]); locals = []; items = ((Data (Number (pos 64)) (Global name_arr) (Of2 binary.Cons (Of unary.Vi (Number (pos 1))) (Of2 binary.Cons (Of unary.Vi (Number (pos 2))) (Of2 binary.Cons (Of unary.Vi (Number (pos 0))) (Of2 binary.Cons (Of unary.Vi (Number (pos 0))) Nil))))) ∷ (Data (Number (pos 64)) (Global name_x) (Of2 binary.Cons (Of unary.Vi (Number (pos 3))) Nil)) ∷ (Data (Number (pos 64)) (Global name_l) (Of2 binary.Cons (Of unary.Vi (Number (pos 0))) Nil)) ∷ []) }); post = (record { opened = (sort.List ∷ sort.List ∷ sort.List ∷ []); facts = ([]); locals = []; items = ((Data (Number (pos 64)) (Global name_arr) (Var 1 sort.List)) ∷ (Data (Number (pos 64)) (Global name_x) (Var 2 sort.List)) ∷ (Data (Number (pos 64)) (Global name_l) (Var 3 sort.List)) ∷ []) }) }) (record { temps = (name_s ∷ name_t ∷ name_i ∷ name_x1 ∷ name_d0 ∷ name_p1 ∷ name_q1 ∷ []); body = (c.Then (c.Set 1 (c.Const 3)) (c.Then (c.OnLock lock.Make (c.Address (root.Global name_l 1) c.Here)) (c.Then (c.OnLock lock.Release (c.Address (root.Global name_l 1) c.Here)) (c.Then (c.Set 0 (c.Binary two.Eq kind.Signed (c.Const 2) (c.Const 1))) (c.Then (c.Set 3 (c.Unary one.Invert kind.Unsigned (c.Const 0))) (c.Then (c.Set 1 (c.Const 1)) (c.Then (c.Set 2 (c.Const 0)) (c.Then (c.Loop (c.Then (c.If (c.Nonzero kind.Signed (c.Binary two.Lt kind.Signed (c.Temp 2) (c.Const 3))) (c.Then (c.Store (root.Global name_arr 4) (c.Index kind.Signed (c.Temp 2) c.Here) (c.Temp 2)) (c.Then (c.Set 2 (c.Binary two.Add kind.Signed (c.Temp 2) (c.Const 1))) (c.Then c.Continue c.End))) (c.Then c.Break c.End)) c.End)) (c.Then (c.Set 0 (c.Binary two.Lt kind.Signed (c.Const 2) (c.Const 2))) (c.Then (c.Set 0 (c.Binary two.Add kind.Signed (c.Temp 2) (c.Const 1))) (c.Then (c.OnLock lock.Acquire (c.Address (root.Global name_l 1) c.Here)) (c.Then (c.OnLock lock.Free (c.Address (root.Global name_l 1) c.Here)) (c.Then (c.Return (Some (c.Const 7))) c.End))))))))))))) }) (s.Then 1 (s.Set ([]) ([])) s.NoBlock (s.Then 2 (s.MakeLock 2 (record { name = name_iv; args = ([]) }) ([]) ([])) s.NoBlock (s.Then 3 (s.Fold name_iv 0 ([]) ((Number (pos 3)) ∷ []) ([])) s.NoBlock (s.Then 4 (s.Release 2 3 ([])) s.NoBlock (s.Then 5 (s.Set ([]) ([])) s.NoBlock (s.Then 6 (s.Set ([]) ([])) s.NoBlock (s.Then 7 (s.While (record { opened = []; facts = ([]); locals = []; items = ([]) }) (record { opened = []; facts = ([]); locals = []; items = ([]) }) ([]) ([]) ([])) (s.WithBlock s.End (s.WithBlock s.End s.NoBlock)) (s.Then 8 (s.Set ([]) ([])) s.NoBlock (s.Then 9 (s.Set ([]) ([])) s.NoBlock (s.Then 10 (s.While (record { opened = (sort.Int ∷ sort.List ∷ []); facts = ((Rel relation.Le (Number (pos 0)) (Var 0 sort.Int)) ∷ (Rel relation.Le (Var 0 sort.Int) (Number (pos 3))) ∷ (Rel relation.Eq (Of unary.Len (Var 1 sort.List)) (Number (pos 4))) ∷ []); locals = ((name_s, (Of unary.Vi (Number (pos 0)))) ∷ (name_t, (Of unary.Vi (Number (pos 1)))) ∷ (name_i, (Of unary.Vi (Var 0 sort.Int))) ∷ (name_x1, (Of unary.Vi (Number (pos 4294967295)))) ∷ []); items = ((Data (Number (pos 64)) (Global name_arr) (Var 1 sort.List)) ∷ (Lock (Number (pos 64)) (Global name_l) (record { name = name_iv; args = ([]) })) ∷ []) }) (record { opened = (sort.Int ∷ sort.List ∷ []); facts = ((Rel relation.Le (Number (pos 0)) (Var 0 sort.Int)) ∷ (Rel relation.Le (Var 0 sort.Int) (Number (pos 3))) ∷ (Rel relation.Eq (Of unary.Len (Var 1 sort.List)) (Number (pos 4))) ∷ (Rel relation.Le (Number (pos 3)) (Var 0 sort.Int)) ∷ []); locals = ((name_s, (Of unary.Vi (Number (pos 0)))) ∷ (name_t, (Of unary.Vi (Number (pos 1)))) ∷ (name_i, (Of unary.Vi (Var 0 sort.Int))) ∷ (name_x1, (Of unary.Vi (Number (pos 4294967295)))) ∷ []); items = ((Data (Number (pos 64)) (Global name_arr) (Var 1 sort.List)) ∷ (Lock (Number (pos 64)) (Global name_l) (record { name = name_iv; args = ([]) })) ∷ []) }) (name_k3 ∷ name_k4 ∷ []) ([]) (name_k1 ∷ name_k2 ∷ [])) (s.WithBlock (s.Then 11 (s.Meet ((Number (pos 0)) ∷ (Of2 binary.Cons (Of unary.Vi (Number (pos 1))) (Of2 binary.Cons (Of unary.Vi (Number (pos 2))) (Of2 binary.Cons (Of unary.Vi (Number (pos 0))) (Of2 binary.Cons (Of unary.Vi (Number (pos 0))) Nil)))) ∷ []) ([])) s.NoBlock s.End) (s.WithBlock (s.Then 12 (s.If ([]) ((record { lines = ((line.Comb (((pos 1), 0) ∷ ((pos 1), 4) ∷ [])) ∷ []) }) ∷ (record { lines = ((line.Comb (((pos 1), 1) ∷ ((pos 1), 4) ∷ [])) ∷ []) }) ∷ []) ([]) ([])) (s.WithBlock (s.Then 13 (s.Store 0 ([]) ((record { lines = ((line.Comb (((pos 1), 0) ∷ ((pos 1), 5) ∷ [])) ∷ []) }) ∷ (record { lines = ((line.Comb (((pos 1), 1) ∷ ((pos 1), 5) ∷ [])) ∷ []) }) ∷ (record { lines = ((line.Comb (((pos 1), 1) ∷ ((pos 1), 3) ∷ ((pos 1), 5) ∷ [])) ∷ []) }) ∷ [])) s.NoBlock (s.Then 14 (s.Law name_len_upd ((Named name_k2) ∷ (Named name_k1) ∷ (Of unary.Vi (Named name_k1)) ∷ []) ([])) s.NoBlock (s.Then 15 (s.Set ([]) ((record { lines = ((line.Comb (((pos 1), 0) ∷ ((pos 1), 7) ∷ [])) ∷ []) }) ∷ (record { lines = ((line.Comb (((pos 1), 1) ∷ ((pos 1), 7) ∷ [])) ∷ []) }) ∷ (record { lines = ((line.Comb (((pos 1), 0) ∷ ((pos 1), 7) ∷ [])) ∷ []) }) ∷ (record { lines = ((line.Comb (((pos 1), 1) ∷ ((pos 1), 7) ∷ [])) ∷ []) }) ∷ [])) s.NoBlock (s.Then 16 (s.Continue ((Of2 binary.Add (Named name_k1) (Number (pos 1))) ∷ (Of3 ternary.Upd (Named name_k2) (Named name_k1) (Of unary.Vi (Named name_k1))) ∷ []) ((record { lines = ((line.Comb (((pos 1), 0) ∷ ((pos 1), 7) ∷ [])) ∷ []) }) ∷ (record { lines = ((line.Comb (((pos 1), 5) ∷ ((pos 1), 2) ∷ ((pos 1), 7) ∷ [])) ∷ []) }) ∷ (record { lines = ((line.Comb (((pos 1), 6) ∷ ((pos 1), 3) ∷ ((pos 1), 7) ∷ [])) ∷ []) }) ∷ [])) s.NoBlock s.End)))) (s.WithBlock (s.Then 17 (s.Break ((Named name_k1) ∷ (Named name_k2) ∷ []) ([])) s.NoBlock s.End) s.NoBlock)) s.End) s.NoBlock)) (s.Then 18 (s.Set ([]) ([])) s.NoBlock (s.Then 19 (s.Set ([]) ((record { lines = ((line.Comb (((pos 1), 0) ∷ ((pos 1), 5) ∷ [])) ∷ []) }) ∷ (record { lines = ((line.Comb (((pos 1), 1) ∷ ((pos 1), 5) ∷ [])) ∷ []) }) ∷ (record { lines = ((line.Comb (((pos 1), 0) ∷ ((pos 1), 5) ∷ [])) ∷ []) }) ∷ (record { lines = ((line.Comb (((pos 1), 1) ∷ ((pos 1), 5) ∷ [])) ∷ []) }) ∷ [])) s.NoBlock (s.Then 20 (s.Acquire 1 ([])) s.NoBlock (s.Then 21 (s.Unfold 3 ((name_k5 ∷ []) ∷ [])) (s.WithBlock (s.Then 22 (s.FreeLock 1 2 ([]) ([])) s.NoBlock (s.Then 23 (s.Return ((Named name_k4) ∷ (Of2 binary.Cons (Of unary.Vi (Named name_k5)) Nil) ∷ (Of2 binary.Cons Undef Nil) ∷ []) ([]) ([])) s.NoBlock s.End)) s.NoBlock) s.End)))))))))))))) ≡ (RefusedAt 7 6 1)
unfolding computing
random_327 = refl

random_328 : body_verdict (record { predicates = ((record { name = name_iv; args = ([]); cases = ((record { opened = (sort.Int ∷ []); facts = ((Rel relation.Le (Number (pos 0)) (Var 0 sort.Int)) ∷ (Rel relation.Le (Var 0 sort.Int) (Number (pos 50))) ∷ []); locals = []; items = ((Data (Number (pos 64)) (Global name_x) (Of2 binary.Cons (Of unary.Vi (Var 0 sort.Int)) Nil)) ∷ []) }) ∷ []) }) ∷ []); specs = ((record { is_void = false; name = name_main; params = ([]); vars = []; pre = (record { opened = []; facts = ([]); locals = []; items = ((Data (Number (pos 64)) (Global name_arr) (Of2 binary.Cons (Of unary.Vi (Number (pos 1))) (Of2 binary.Cons (Of unary.Vi (Number (pos 2))) (Of2 binary.Cons (Of unary.Vi (Number (pos 0))) (Of2 binary.Cons (Of unary.Vi (Number (pos 0))) Nil))))) ∷ (Data (Number (pos 64)) (Global name_x) (Of2 binary.Cons (Of unary.Vi (Number (pos 3))) Nil)) ∷ (Data (Number (pos 64)) (Global name_l) (Of2 binary.Cons (Of unary.Vi (Number (pos 0))) Nil)) ∷ []) }); post = (record { opened = (sort.List ∷ sort.List ∷ sort.List ∷ []); facts = ([]); locals = []; items = ((Data (Number (pos 64)) (Global name_arr) (Var 1 sort.List)) ∷ (Data (Number (pos 64)) (Global name_x) (Var 2 sort.List)) ∷ (Data (Number (pos 64)) (Global name_l) (Var 3 sort.List)) ∷ []) }) }) ∷ []) }) (record { is_void = false; name = name_main; params = ([]); vars = []; pre = (record { opened = []; facts = ([]); locals = []; items = ((Data (Number (pos 64)) (Global name_arr) (Of2 binary.Cons (Of unary.Vi (Number (pos 1))) (Of2 binary.Cons (Of unary.Vi (Number (pos 2))) (Of2 binary.Cons (Of unary.Vi (Number (pos 0))) (Of2 binary.Cons (Of unary.Vi (Number (pos 0))) Nil))))) ∷ (Data (Number (pos 64)) (Global name_x) (Of2 binary.Cons (Of unary.Vi (Number (pos 3))) Nil)) ∷ (Data (Number (pos 64)) (Global name_l) (Of2 binary.Cons (Of unary.Vi (Number (pos 0))) Nil)) ∷ []) }); post = (record { opened = (sort.List ∷ sort.List ∷ sort.List ∷ []); facts = ([]); locals = []; items = ((Data (Number (pos 64)) (Global name_arr) (Var 1 sort.List)) ∷ (Data (Number (pos 64)) (Global name_x) (Var 2 sort.List)) ∷ (Data (Number (pos 64)) (Global name_l) (Var 3 sort.List)) ∷ []) }) }) (record { temps = (name_s ∷ name_t ∷ name_i ∷ name_x1 ∷ name_d0 ∷ name_p1 ∷ name_q1 ∷ []); body = (c.Then (c.Set 1 (c.Const 3)) (c.Then (c.OnLock lock.Make (c.Address (root.Global name_l 1) c.Here)) (c.Then (c.OnLock lock.Release (c.Address (root.Global name_l 1) c.Here)) (c.Then (c.Set 0 (c.Binary two.Eq kind.Signed (c.Const 2) (c.Const 1))) (c.Then (c.Set 3 (c.Unary one.Invert kind.Unsigned (c.Const 0))) (c.Then (c.Set 1 (c.Const 1)) (c.Then (c.Set 2 (c.Const 0)) (c.Then (c.Loop (c.Then (c.If (c.Nonzero kind.Signed (c.Binary two.Lt kind.Signed (c.Temp 2) (c.Const 3))) (c.Then (c.Store (root.Global name_arr 4) (c.Index kind.Signed (c.Temp 2) c.Here) (c.Temp 2)) (c.Then (c.Set 2 (c.Binary two.Add kind.Signed (c.Temp 2) (c.Const 1))) (c.Then c.Continue c.End))) (c.Then c.Break c.End)) c.End)) (c.Then (c.Set 0 (c.Binary two.Lt kind.Signed (c.Const 2) (c.Const 2))) (c.Then (c.Set 0 (c.Binary two.Add kind.Signed (c.Temp 2) (c.Const 1))) (c.Then (c.OnLock lock.Acquire (c.Address (root.Global name_l 1) c.Here)) (c.Then (c.OnLock lock.Free (c.Address (root.Global name_l 1) c.Here)) (c.Then (c.Return (Some (c.Const 7))) c.End))))))))))))) }) (s.Then 1 (s.Set ([]) ([])) s.NoBlock (s.Then 2 (s.MakeLock 2 (record { name = name_iv; args = ([]) }) ([]) ([])) s.NoBlock (s.Then 3 (s.Fold name_iv 0 ([]) ((Number (pos 3)) ∷ []) ([])) s.NoBlock (s.Then 4 (s.Release 2 3 ([])) s.NoBlock (s.Then 5 (s.Set ([]) ([])) s.NoBlock (s.Then 6 (s.Set ([]) ([])) s.NoBlock (s.Then 7 (s.Set ([]) ([])) s.NoBlock (s.Then 8 (s.Set ([]) ([])) s.NoBlock (s.Then 9 (s.While (record { opened = (sort.Int ∷ sort.List ∷ []); facts = ((Rel relation.Le (Number (pos 0)) (Var 0 sort.Int)) ∷ (Rel relation.Le (Var 0 sort.Int) (Number (pos 1))) ∷ (Rel relation.Eq (Of unary.Len (Var 1 sort.List)) (Number (pos 4))) ∷ []); locals = ((name_s, (Of unary.Vi (Number (pos 0)))) ∷ (name_t, (Of unary.Vi (Number (pos 1)))) ∷ (name_i, (Of unary.Vi (Var 0 sort.Int))) ∷ (name_x1, (Of unary.Vi (Number (pos 4294967295)))) ∷ []); items = ((Data (Number (pos 64)) (Global name_arr) (Var 1 sort.List)) ∷ (Lock (Number (pos 64)) (Global name_l) (record { name = name_iv; args = ([]) })) ∷ []) }) (record { opened = (sort.Int ∷ sort.List ∷ []); facts = ((Rel relation.Le (Number (pos 0)) (Var 0 sort.Int)) ∷ (Rel relation.Le (Var 0 sort.Int) (Number (pos 3))) ∷ (Rel relation.Eq (Of unary.Len (Var 1 sort.List)) (Number (pos 4))) ∷ (Rel relation.Le (Number (pos 3)) (Var 0 sort.Int)) ∷ []); locals = ((name_s, (Of unary.Vi (Number (pos 0)))) ∷ (name_t, (Of unary.Vi (Number (pos 1)))) ∷ (name_i, (Of unary.Vi (Var 0 sort.Int))) ∷ (name_x1, (Of unary.Vi (Number (pos 4294967295)))) ∷ []); items = ((Data (Number (pos 64)) (Global name_arr) (Var 1 sort.List)) ∷ (Lock (Number (pos 64)) (Global name_l) (record { name = name_iv; args = ([]) })) ∷ []) }) (name_k3 ∷ name_k4 ∷ []) ([]) (name_k1 ∷ name_k2 ∷ [])) (s.WithBlock (s.Then 10 (s.Meet ((Number (pos 0)) ∷ (Of2 binary.Cons (Of unary.Vi (Number (pos 1))) (Of2 binary.Cons (Of unary.Vi (Number (pos 2))) (Of2 binary.Cons (Of unary.Vi (Number (pos 0))) (Of2 binary.Cons (Of unary.Vi (Number (pos 0))) Nil)))) ∷ []) ([])) s.NoBlock s.End) (s.WithBlock (s.Then 11 (s.If ([]) ((record { lines = ((line.Comb (((pos 1), 0) ∷ ((pos 1), 4) ∷ [])) ∷ []) }) ∷ (record { lines = ((line.Comb (((pos 1), 1) ∷ ((pos 1), 4) ∷ [])) ∷ []) }) ∷ []) ([]) ([])) (s.WithBlock (s.Then 12 (s.Store 0 ([]) ((record { lines = ((line.Comb (((pos 1), 0) ∷ ((pos 1), 5) ∷ [])) ∷ []) }) ∷ (record { lines = ((line.Comb (((pos 1), 1) ∷ ((pos 1), 5) ∷ [])) ∷ []) }) ∷ (record { lines = ((line.Comb (((pos 1), 1) ∷ ((pos 1), 3) ∷ ((pos 1), 5) ∷ [])) ∷ []) }) ∷ [])) s.NoBlock (s.Then 13 (s.Law name_len_upd ((Named name_k2) ∷ (Named name_k1) ∷ (Of unary.Vi (Named name_k1)) ∷ []) ([])) s.NoBlock (s.Then 14 (s.Set ([]) ((record { lines = ((line.Comb (((pos 1), 0) ∷ ((pos 1), 7) ∷ [])) ∷ []) }) ∷ (record { lines = ((line.Comb (((pos 1), 1) ∷ ((pos 1), 7) ∷ [])) ∷ []) }) ∷ (record { lines = ((line.Comb (((pos 1), 0) ∷ ((pos 1), 7) ∷ [])) ∷ []) }) ∷ (record { lines = ((line.Comb (((pos 1), 1) ∷ ((pos 1), 7) ∷ [])) ∷ []) }) ∷ [])) s.NoBlock (s.Then 15 (s.Continue ((Of2 binary.Add (Named name_k1) (Number (pos 1))) ∷ (Of3 ternary.Upd (Named name_k2) (Named name_k1) (Of unary.Vi (Named name_k1))) ∷ []) ((record { lines = ((line.Comb (((pos 1), 0) ∷ ((pos 1), 7) ∷ [])) ∷ []) }) ∷ (record { lines = ((line.Comb (((pos 1), 5) ∷ ((pos 1), 2) ∷ ((pos 1), 7) ∷ [])) ∷ []) }) ∷ (record { lines = ((line.Comb (((pos 1), 6) ∷ ((pos 1), 3) ∷ ((pos 1), 7) ∷ [])) ∷ []) }) ∷ [])) s.NoBlock s.End)))) (s.WithBlock (s.Then 16 (s.Break ((Named name_k1) ∷ (Named name_k2) ∷ []) ([])) s.NoBlock s.End) s.NoBlock)) s.End) s.NoBlock)) (s.Then 17 (s.Set ([]) ([])) s.NoBlock (s.Then 18 (s.Set ([]) ((record { lines = ((line.Comb (((pos 1), 0) ∷ ((pos 1), 5) ∷ [])) ∷ []) }) ∷ (record { lines = ((line.Comb (((pos 1), 1) ∷ ((pos 1), 5) ∷ [])) ∷ []) }) ∷ (record { lines = ((line.Comb (((pos 1), 0) ∷ ((pos 1), 5) ∷ [])) ∷ []) }) ∷ (record { lines = ((line.Comb (((pos 1), 1) ∷ ((pos 1), 5) ∷ [])) ∷ []) }) ∷ [])) s.NoBlock (s.Then 19 (s.Acquire 1 ([])) s.NoBlock (s.Then 20 (s.Unfold 3 ((name_k5 ∷ []) ∷ [])) (s.WithBlock (s.Then 21 (s.FreeLock 1 2 ([]) ([])) s.NoBlock (s.Then 22 (s.Return ((Named name_k4) ∷ (Of2 binary.Cons (Of unary.Vi (Named name_k5)) Nil) ∷ (Of2 binary.Cons Undef Nil) ∷ []) ([]) ([])) s.NoBlock s.End)) s.NoBlock) s.End))))))))))))) ≡ (RefusedAt 15 8 3)
unfolding computing
random_328 = refl

random_329 : body_verdict (record { predicates = ((record { name = name_iv; args = ([]); cases = ((record { opened = (sort.Int ∷ []); facts = ((Rel relation.Le (Number (pos 0)) (Var 0 sort.Int)) ∷ (Rel relation.Le (Var 0 sort.Int) (Number (pos 50))) ∷ []); locals = []; items = ((Data (Number (pos 64)) (Global name_x) (Of2 binary.Cons (Of unary.Vi (Var 0 sort.Int)) Nil)) ∷ []) }) ∷ []) }) ∷ []); specs = ((record { is_void = false; name = name_main; params = ([]); vars = []; pre = (record { opened = []; facts = ([]); locals = []; items = ((Data (Number (pos 64)) (Global name_arr) (Of2 binary.Cons (Of unary.Vi (Number (pos 1))) (Of2 binary.Cons (Of unary.Vi (Number (pos 2))) (Of2 binary.Cons (Of unary.Vi (Number (pos 0))) (Of2 binary.Cons (Of unary.Vi (Number (pos 0))) Nil))))) ∷ (Data (Number (pos 64)) (Global name_x) (Of2 binary.Cons (Of unary.Vi (Number (pos 3))) Nil)) ∷ (Data (Number (pos 64)) (Global name_l) (Of2 binary.Cons (Of unary.Vi (Number (pos 0))) Nil)) ∷ []) }); post = (record { opened = (sort.List ∷ sort.List ∷ sort.List ∷ []); facts = ([]); locals = []; items = ((Data (Number (pos 64)) (Global name_arr) (Var 1 sort.List)) ∷ (Data (Number (pos 64)) (Global name_x) (Var 2 sort.List)) ∷ (Data (Number (pos 64)) (Global name_l) (Var 3 sort.List)) ∷ []) }) }) ∷ []) }) (record { is_void = false; name = name_main; params = ([]); vars = []; pre = (record { opened = []; facts = ([]); locals = []; items = ((Data (Number (pos 64)) (Global name_arr) (Of2 binary.Cons (Of unary.Vi (Number (pos 1))) (Of2 binary.Cons (Of unary.Vi (Number (pos 2))) (Of2 binary.Cons (Of unary.Vi (Number (pos 0))) (Of2 binary.Cons (Of unary.Vi (Number (pos 0))) Nil))))) ∷ (Data (Number (pos 64)) (Global name_x) (Of2 binary.Cons (Of unary.Vi (Number (pos 3))) Nil)) ∷ (Data (Number (pos 64)) (Global name_l) (Of2 binary.Cons (Of unary.Vi (Number (pos 0))) Nil)) ∷ []) }); post = (record { opened = (sort.List ∷ sort.List ∷ sort.List ∷ []); facts = ([]); locals = []; items = ((Data (Number (pos 64)) (Global name_arr) (Var 1 sort.List)) ∷ (Data (Number (pos 64)) (Global name_x) (Var 2 sort.List)) ∷ (Data (Number (pos 64)) (Global name_l) (Var 3 sort.List)) ∷ []) }) }) (record { temps = (name_s ∷ name_t ∷ name_i ∷ name_x1 ∷ name_d0 ∷ name_p1 ∷ name_q1 ∷ []); body = (c.Then (c.Set 1 (c.Const 3)) (c.Then (c.OnLock lock.Make (c.Address (root.Global name_l 1) c.Here)) (c.Then (c.OnLock lock.Release (c.Address (root.Global name_l 1) c.Here)) (c.Then (c.Set 0 (c.Binary two.Eq kind.Signed (c.Const 2) (c.Const 1))) (c.Then (c.Set 3 (c.Unary one.Invert kind.Unsigned (c.Const 0))) (c.Then (c.Set 1 (c.Const 1)) (c.Then (c.Set 2 (c.Const 0)) (c.Then (c.Loop (c.Then (c.If (c.Nonzero kind.Signed (c.Binary two.Lt kind.Signed (c.Temp 2) (c.Const 3))) (c.Then (c.Store (root.Global name_arr 4) (c.Index kind.Signed (c.Temp 2) c.Here) (c.Temp 2)) (c.Then (c.Set 2 (c.Binary two.Add kind.Signed (c.Temp 2) (c.Const 1))) (c.Then c.Continue c.End))) (c.Then c.Break c.End)) c.End)) (c.Then (c.Set 0 (c.Binary two.Lt kind.Signed (c.Const 2) (c.Const 2))) (c.Then (c.Set 0 (c.Binary two.Add kind.Signed (c.Temp 2) (c.Const 1))) (c.Then (c.OnLock lock.Acquire (c.Address (root.Global name_l 1) c.Here)) (c.Then (c.OnLock lock.Free (c.Address (root.Global name_l 1) c.Here)) (c.Then (c.Return (Some (c.Const 7))) c.End))))))))))))) }) (s.Then 1 (s.Set ([]) ([])) s.NoBlock (s.Then 2 (s.MakeLock 2 (record { name = name_iv; args = ([]) }) ([]) ([])) s.NoBlock (s.Then 3 (s.Fold name_iv 0 ([]) ((Number (pos 3)) ∷ []) ([])) s.NoBlock (s.Then 4 (s.Release 2 3 ([])) s.NoBlock (s.Then 5 (s.Set ([]) ([])) s.NoBlock (s.Then 6 (s.Set ([]) ([])) s.NoBlock (s.Then 7 (s.Set ([]) ([])) s.NoBlock (s.Then 8 (s.Set ([]) ([])) s.NoBlock (s.Then 9 (s.While (record { opened = (sort.Int ∷ sort.List ∷ []); facts = ((Rel relation.Le (Number (pos 0)) (Var 0 sort.Int)) ∷ (Rel relation.Le (Var 0 sort.Int) (Number (pos 3))) ∷ (Rel relation.Eq (Of unary.Len (Var 1 sort.List)) (Number (pos 4))) ∷ []); locals = ((name_s, (Of unary.Vi (Number (pos 0)))) ∷ (name_t, (Of unary.Vi (Number (pos 1)))) ∷ (name_i, (Of unary.Vi (Var 0 sort.Int))) ∷ (name_x1, (Of unary.Vi (Number (pos 4294967295)))) ∷ []); items = ((Data (Number (pos 64)) (Global name_arr) (Var 1 sort.List)) ∷ (Lock (Number (pos 64)) (Global name_l) (record { name = name_iv; args = ([]) })) ∷ []) }) (record { opened = (sort.Int ∷ sort.List ∷ []); facts = ((Rel relation.Le (Number (pos 0)) (Var 0 sort.Int)) ∷ (Rel relation.Le (Var 0 sort.Int) (Number (pos 3))) ∷ (Rel relation.Eq (Of unary.Len (Var 1 sort.List)) (Number (pos 4))) ∷ (Rel relation.Le (Number (pos 3)) (Var 0 sort.Int)) ∷ []); locals = ((name_s, (Of unary.Vi (Number (pos 0)))) ∷ (name_t, (Of unary.Vi (Number (pos 1)))) ∷ (name_i, (Of unary.Vi (Var 0 sort.Int))) ∷ (name_x1, (Of unary.Vi (Number (pos 4294967295)))) ∷ []); items = ((Data (Number (pos 64)) (Global name_arr) (Var 1 sort.List)) ∷ (Lock (Number (pos 64)) (Global name_l) (record { name = name_iv; args = ([]) })) ∷ []) }) (name_k3 ∷ name_k4 ∷ []) ([]) (name_k1 ∷ name_k2 ∷ [])) (s.WithBlock (s.Then 10 (s.Meet ((Number (pos 0)) ∷ (Of2 binary.Cons (Of unary.Vi (Number (pos 1))) (Of2 binary.Cons (Of unary.Vi (Number (pos 2))) (Of2 binary.Cons (Of unary.Vi (Number (pos 0))) (Of2 binary.Cons (Of unary.Vi (Number (pos 0))) Nil)))) ∷ []) ([])) s.NoBlock s.End) (s.WithBlock (s.Then 11 (s.If ([]) ((record { lines = ((line.Comb (((pos 1), 0) ∷ ((pos 1), 4) ∷ [])) ∷ []) }) ∷ (record { lines = ((line.Comb (((pos 1), 1) ∷ ((pos 1), 4) ∷ [])) ∷ []) }) ∷ []) ([]) ([])) (s.WithBlock (s.Then 12 (s.Store 0 ([]) ((record { lines = ((line.Comb (((pos 1), 0) ∷ ((pos 1), 5) ∷ [])) ∷ []) }) ∷ (record { lines = ((line.Comb (((pos 1), 1) ∷ ((pos 1), 5) ∷ [])) ∷ []) }) ∷ (record { lines = ((line.Comb (((pos 1), 1) ∷ ((pos 1), 3) ∷ ((pos 1), 5) ∷ [])) ∷ []) }) ∷ [])) s.NoBlock (s.Then 13 (s.Law name_len_upd ((Named name_k2) ∷ (Named name_k1) ∷ (Of unary.Vi (Named name_k1)) ∷ []) ([])) s.NoBlock (s.Then 14 (s.Continue ((Of2 binary.Add (Named name_k1) (Number (pos 1))) ∷ (Of3 ternary.Upd (Named name_k2) (Named name_k1) (Of unary.Vi (Named name_k1))) ∷ []) ((record { lines = ((line.Comb (((pos 1), 0) ∷ ((pos 1), 7) ∷ [])) ∷ []) }) ∷ (record { lines = ((line.Comb (((pos 1), 5) ∷ ((pos 1), 2) ∷ ((pos 1), 7) ∷ [])) ∷ []) }) ∷ (record { lines = ((line.Comb (((pos 1), 6) ∷ ((pos 1), 3) ∷ ((pos 1), 7) ∷ [])) ∷ []) }) ∷ [])) s.NoBlock s.End))) (s.WithBlock (s.Then 15 (s.Break ((Named name_k1) ∷ (Named name_k2) ∷ []) ([])) s.NoBlock s.End) s.NoBlock)) s.End) s.NoBlock)) (s.Then 16 (s.Set ([]) ([])) s.NoBlock (s.Then 17 (s.Set ([]) ((record { lines = ((line.Comb (((pos 1), 0) ∷ ((pos 1), 5) ∷ [])) ∷ []) }) ∷ (record { lines = ((line.Comb (((pos 1), 1) ∷ ((pos 1), 5) ∷ [])) ∷ []) }) ∷ (record { lines = ((line.Comb (((pos 1), 0) ∷ ((pos 1), 5) ∷ [])) ∷ []) }) ∷ (record { lines = ((line.Comb (((pos 1), 1) ∷ ((pos 1), 5) ∷ [])) ∷ []) }) ∷ [])) s.NoBlock (s.Then 18 (s.Acquire 1 ([])) s.NoBlock (s.Then 19 (s.Unfold 3 ((name_k5 ∷ []) ∷ [])) (s.WithBlock (s.Then 20 (s.FreeLock 1 2 ([]) ([])) s.NoBlock (s.Then 21 (s.Return ((Named name_k4) ∷ (Of2 binary.Cons (Of unary.Vi (Named name_k5)) Nil) ∷ (Of2 binary.Cons Undef Nil) ∷ []) ([]) ([])) s.NoBlock s.End)) s.NoBlock) s.End))))))))))))) ≡ (RefusedAt 14 8 1)
unfolding computing
random_329 = refl

random_330 : body_verdict (record { predicates = ((record { name = name_iv; args = ([]); cases = ((record { opened = (sort.Int ∷ []); facts = ((Rel relation.Le (Number (pos 0)) (Var 0 sort.Int)) ∷ (Rel relation.Le (Var 0 sort.Int) (Number (pos 50))) ∷ []); locals = []; items = ((Data (Number (pos 64)) (Global name_x) (Of2 binary.Cons (Of unary.Vi (Var 0 sort.Int)) Nil)) ∷ []) }) ∷ []) }) ∷ []); specs = ((record { is_void = false; name = name_main; params = ([]); vars = []; pre = (record { opened = []; facts = ([]); locals = []; items = ((Data (Number (pos 64)) (Global name_arr) (Of2 binary.Cons (Of unary.Vi (Number (pos 1))) (Of2 binary.Cons (Of unary.Vi (Number (pos 2))) (Of2 binary.Cons (Of unary.Vi (Number (pos 0))) (Of2 binary.Cons (Of unary.Vi (Number (pos 0))) Nil))))) ∷ (Data (Number (pos 64)) (Global name_x) (Of2 binary.Cons (Of unary.Vi (Number (pos 3))) Nil)) ∷ (Data (Number (pos 64)) (Global name_l) (Of2 binary.Cons (Of unary.Vi (Number (pos 0))) Nil)) ∷ []) }); post = (record { opened = (sort.List ∷ sort.List ∷ sort.List ∷ []); facts = ([]); locals = []; items = ((Data (Number (pos 64)) (Global name_arr) (Var 1 sort.List)) ∷ (Data (Number (pos 64)) (Global name_x) (Var 2 sort.List)) ∷ (Data (Number (pos 64)) (Global name_l) (Var 3 sort.List)) ∷ []) }) }) ∷ []) }) (record { is_void = false; name = name_main; params = ([]); vars = []; pre = (record { opened = []; facts = ([]); locals = []; items = ((Data (Number (pos 64)) (Global name_arr) (Of2 binary.Cons (Of unary.Vi (Number (pos 1))) (Of2 binary.Cons (Of unary.Vi (Number (pos 2))) (Of2 binary.Cons (Of unary.Vi (Number (pos 0))) (Of2 binary.Cons (Of unary.Vi (Number (pos 0))) Nil))))) ∷ (Data (Number (pos 64)) (Global name_x) (Of2 binary.Cons (Of unary.Vi (Number (pos 3))) Nil)) ∷ (Data (Number (pos 64)) (Global name_l) (Of2 binary.Cons (Of unary.Vi (Number (pos 0))) Nil)) ∷ []) }); post = (record { opened = (sort.List ∷ sort.List ∷ sort.List ∷ []); facts = ([]); locals = []; items = ((Data (Number (pos 64)) (Global name_arr) (Var 1 sort.List)) ∷ (Data (Number (pos 64)) (Global name_x) (Var 2 sort.List)) ∷ (Data (Number (pos 64)) (Global name_l) (Var 3 sort.List)) ∷ []) }) }) (record { temps = (name_s ∷ name_t ∷ name_i ∷ name_x1 ∷ name_d0 ∷ name_p1 ∷ name_q1 ∷ []); body = (c.Then (c.Set 1 (c.Const 3)) (c.Then (c.OnLock lock.Make (c.Address (root.Global name_l 1) c.Here)) (c.Then (c.OnLock lock.Release (c.Address (root.Global name_l 1) c.Here)) (c.Then (c.Set 0 (c.Binary two.Eq kind.Signed (c.Const 2) (c.Const 1))) (c.Then (c.Set 3 (c.Unary one.Invert kind.Unsigned (c.Const 0))) (c.Then (c.Set 1 (c.Const 1)) (c.Then (c.Set 2 (c.Const 0)) (c.Then (c.Loop (c.Then (c.If (c.Nonzero kind.Signed (c.Binary two.Lt kind.Signed (c.Temp 2) (c.Const 3))) (c.Then (c.Store (root.Global name_arr 4) (c.Index kind.Signed (c.Temp 2) c.Here) (c.Temp 2)) (c.Then (c.Set 2 (c.Binary two.Add kind.Signed (c.Temp 2) (c.Const 1))) (c.Then c.Continue c.End))) (c.Then c.Break c.End)) c.End)) (c.Then (c.Set 0 (c.Binary two.Lt kind.Signed (c.Const 2) (c.Const 2))) (c.Then (c.Set 0 (c.Binary two.Add kind.Signed (c.Temp 2) (c.Const 1))) (c.Then (c.OnLock lock.Acquire (c.Address (root.Global name_l 1) c.Here)) (c.Then (c.OnLock lock.Free (c.Address (root.Global name_l 1) c.Here)) (c.Then (c.Return (Some (c.Const 7))) c.End))))))))))))) }) (s.Then 1 (s.Set ([]) ([])) s.NoBlock (s.Then 2 (s.MakeLock 2 (record { name = name_iv; args = ([]) }) ([]) ([])) s.NoBlock (s.Then 3 (s.Fold name_iv 0 ([]) ((Number (pos 3)) ∷ []) ([])) s.NoBlock (s.Then 4 (s.Release 2 3 ([])) s.NoBlock (s.Then 5 (s.Set ([]) ([])) s.NoBlock (s.Then 6 (s.Set ([]) ([])) s.NoBlock (s.Then 7 (s.Set ([]) ([])) s.NoBlock (s.Then 8 (s.Set ([]) ([])) s.NoBlock (s.Then 9 (s.While (record { opened = (sort.Int ∷ sort.List ∷ []); facts = ((Rel relation.Le (Number (pos 0)) (Var 0 sort.Int)) ∷ (Rel relation.Le (Var 0 sort.Int) (Number (pos 3))) ∷ (Rel relation.Eq (Of unary.Len (Var 1 sort.List)) (Number (pos 4))) ∷ []); locals = ((name_s, (Of unary.Vi (Number (pos 0)))) ∷ (name_t, (Of unary.Vi (Number (pos 1)))) ∷ (name_i, (Of unary.Vi (Var 0 sort.Int))) ∷ (name_x1, (Of unary.Vi (Number (pos 4294967295)))) ∷ []); items = ((Data (Number (pos 64)) (Global name_arr) (Var 1 sort.List)) ∷ (Lock (Number (pos 64)) (Global name_l) (record { name = name_iv; args = ([]) })) ∷ []) }) (record { opened = (sort.Int ∷ sort.List ∷ []); facts = ((Rel relation.Le (Number (pos 0)) (Var 0 sort.Int)) ∷ (Rel relation.Le (Var 0 sort.Int) (Number (pos 3))) ∷ (Rel relation.Eq (Of unary.Len (Var 1 sort.List)) (Number (pos 4))) ∷ (Rel relation.Le (Number (pos 3)) (Var 0 sort.Int)) ∷ []); locals = ((name_s, (Of unary.Vi (Number (pos 0)))) ∷ (name_t, (Of unary.Vi (Number (pos 1)))) ∷ (name_i, (Of unary.Vi (Var 0 sort.Int))) ∷ (name_x1, (Of unary.Vi (Number (pos 4294967295)))) ∷ []); items = ((Data (Number (pos 64)) (Global name_arr) (Var 1 sort.List)) ∷ (Lock (Number (pos 64)) (Global name_l) (record { name = name_iv; args = ([]) })) ∷ []) }) (name_k3 ∷ name_k4 ∷ []) ([]) (name_k1 ∷ name_k2 ∷ [])) (s.WithBlock (s.Then 10 (s.Meet ((Number (pos 0)) ∷ (Of2 binary.Cons (Of unary.Vi (Number (pos 1))) (Of2 binary.Cons (Of unary.Vi (Number (pos 2))) (Of2 binary.Cons (Of unary.Vi (Number (pos 0))) (Of2 binary.Cons (Of unary.Vi (Number (pos 0))) Nil)))) ∷ []) ([])) s.NoBlock s.End) (s.WithBlock (s.Then 11 (s.If ([]) ((record { lines = ((line.Comb (((pos 1), 0) ∷ ((pos 1), 4) ∷ [])) ∷ []) }) ∷ (record { lines = ((line.Comb (((pos 1), 1) ∷ ((pos 1), 4) ∷ [])) ∷ []) }) ∷ []) ([]) ([])) (s.WithBlock (s.Then 12 (s.Store 0 ([]) ((record { lines = ((line.Comb (((pos 1), 0) ∷ ((pos 1), 5) ∷ [])) ∷ []) }) ∷ (record { lines = ((line.Comb (((pos 1), 1) ∷ ((pos 1), 5) ∷ [])) ∷ []) }) ∷ (record { lines = ((line.Comb (((pos 1), 1) ∷ ((pos 1), 3) ∷ ((pos 1), 5) ∷ [])) ∷ []) }) ∷ [])) s.NoBlock (s.Then 13 (s.Law name_len_upd ((Named name_k2) ∷ (Named name_k1) ∷ (Of unary.Vi (Named name_k1)) ∷ []) ([])) s.NoBlock (s.Then 14 (s.Set ([]) ((record { lines = ((line.Comb (((pos 1), 0) ∷ ((pos 1), 7) ∷ [])) ∷ []) }) ∷ (record { lines = ((line.Comb (((pos 1), 1) ∷ ((pos 1), 7) ∷ [])) ∷ []) }) ∷ (record { lines = ((line.Comb (((pos 1), 0) ∷ ((pos 1), 7) ∷ [])) ∷ []) }) ∷ (record { lines = ((line.Comb (((pos 1), 1) ∷ ((pos 1), 7) ∷ [])) ∷ []) }) ∷ [])) s.NoBlock (s.Then 15 (s.Continue ((Of2 binary.Add (Named name_k1) (Number (pos 1))) ∷ (Of3 ternary.Upd (Named name_k2) (Named name_k1) (Of unary.Vi (Named name_k1))) ∷ []) ((record { lines = ((line.Comb (((pos 1), 0) ∷ ((pos 1), 7) ∷ [])) ∷ []) }) ∷ (record { lines = ((line.Comb (((pos 1), 5) ∷ ((pos 1), 2) ∷ ((pos 1), 7) ∷ [])) ∷ []) }) ∷ (record { lines = ((line.Comb (((pos 1), 6) ∷ ((pos 1), 3) ∷ ((pos 1), 7) ∷ [])) ∷ []) }) ∷ [])) s.NoBlock s.End)))) (s.WithBlock (s.Then 16 (s.Break ((Named name_k1) ∷ (Named name_k2) ∷ (Of unary.Vi (Number (pos 0))) ∷ []) ([])) s.NoBlock s.End) s.NoBlock)) s.End) s.NoBlock)) (s.Then 17 (s.Set ([]) ([])) s.NoBlock (s.Then 18 (s.Set ([]) ((record { lines = ((line.Comb (((pos 1), 0) ∷ ((pos 1), 5) ∷ [])) ∷ []) }) ∷ (record { lines = ((line.Comb (((pos 1), 1) ∷ ((pos 1), 5) ∷ [])) ∷ []) }) ∷ (record { lines = ((line.Comb (((pos 1), 0) ∷ ((pos 1), 5) ∷ [])) ∷ []) }) ∷ (record { lines = ((line.Comb (((pos 1), 1) ∷ ((pos 1), 5) ∷ [])) ∷ []) }) ∷ [])) s.NoBlock (s.Then 19 (s.Acquire 1 ([])) s.NoBlock (s.Then 20 (s.Unfold 3 ((name_k5 ∷ []) ∷ [])) (s.WithBlock (s.Then 21 (s.FreeLock 1 2 ([]) ([])) s.NoBlock (s.Then 22 (s.Return ((Named name_k4) ∷ (Of2 binary.Cons (Of unary.Vi (Named name_k5)) Nil) ∷ (Of2 binary.Cons Undef Nil) ∷ []) ([]) ([])) s.NoBlock s.End)) s.NoBlock) s.End))))))))))))) ≡ (RefusedAt 16 7 1)
unfolding computing
random_330 = refl

random_331 : body_verdict (record { predicates = ((record { name = name_iv; args = ([]); cases = ((record { opened = (sort.Int ∷ []); facts = ((Rel relation.Le (Number (pos 0)) (Var 0 sort.Int)) ∷ (Rel relation.Le (Var 0 sort.Int) (Number (pos 50))) ∷ []); locals = []; items = ((Data (Number (pos 64)) (Global name_x) (Of2 binary.Cons (Of unary.Vi (Var 0 sort.Int)) Nil)) ∷ []) }) ∷ []) }) ∷ []); specs = ((record { is_void = false; name = name_main; params = ([]); vars = []; pre = (record { opened = []; facts = ([]); locals = []; items = ((Data (Number (pos 64)) (Global name_arr) (Of2 binary.Cons (Of unary.Vi (Number (pos 1))) (Of2 binary.Cons (Of unary.Vi (Number (pos 2))) (Of2 binary.Cons (Of unary.Vi (Number (pos 0))) (Of2 binary.Cons (Of unary.Vi (Number (pos 0))) Nil))))) ∷ (Data (Number (pos 64)) (Global name_x) (Of2 binary.Cons (Of unary.Vi (Number (pos 3))) Nil)) ∷ (Data (Number (pos 64)) (Global name_l) (Of2 binary.Cons (Of unary.Vi (Number (pos 0))) Nil)) ∷ []) }); post = (record { opened = (sort.List ∷ sort.List ∷ sort.List ∷ []); facts = ([]); locals = []; items = ((Data (Number (pos 64)) (Global name_arr) (Var 1 sort.List)) ∷ (Data (Number (pos 64)) (Global name_x) (Var 2 sort.List)) ∷ (Data (Number (pos 64)) (Global name_l) (Var 3 sort.List)) ∷ []) }) }) ∷ []) }) (record { is_void = false; name = name_main; params = ([]); vars = []; pre = (record { opened = []; facts = ([]); locals = []; items = ((Data (Number (pos 64)) (Global name_arr) (Of2 binary.Cons (Of unary.Vi (Number (pos 1))) (Of2 binary.Cons (Of unary.Vi (Number (pos 2))) (Of2 binary.Cons (Of unary.Vi (Number (pos 0))) (Of2 binary.Cons (Of unary.Vi (Number (pos 0))) Nil))))) ∷ (Data (Number (pos 64)) (Global name_x) (Of2 binary.Cons (Of unary.Vi (Number (pos 3))) Nil)) ∷ (Data (Number (pos 64)) (Global name_l) (Of2 binary.Cons (Of unary.Vi (Number (pos 0))) Nil)) ∷ []) }); post = (record { opened = (sort.List ∷ sort.List ∷ sort.List ∷ []); facts = ([]); locals = []; items = ((Data (Number (pos 64)) (Global name_arr) (Var 1 sort.List)) ∷ (Data (Number (pos 64)) (Global name_x) (Var 2 sort.List)) ∷ (Data (Number (pos 64)) (Global name_l) (Var 3 sort.List)) ∷ []) }) }) (record { temps = (name_s ∷ name_t ∷ name_i ∷ name_x1 ∷ name_d0 ∷ name_p1 ∷ name_q1 ∷ []); body = (c.Then (c.OnLock lock.Make (c.Address (root.Global name_l 1) c.Here)) (c.Then (c.OnLock lock.Release (c.Address (root.Global name_l 1) c.Here)) (c.Then (c.Set 0 (c.Binary two.Eq kind.Signed (c.Const 2) (c.Const 1))) (c.Then (c.Set 3 (c.Unary one.Invert kind.Unsigned (c.Const 0))) (c.Then (c.Set 1 (c.Const 1)) (c.Then (c.Set 2 (c.Const 0)) (c.Then (c.Loop (c.Then (c.If (c.Nonzero kind.Signed (c.Binary two.Lt kind.Signed (c.Temp 2) (c.Const 3))) (c.Then (c.Store (root.Global name_arr 4) (c.Index kind.Signed (c.Temp 2) c.Here) (c.Temp 2)) (c.Then (c.Set 2 (c.Binary two.Add kind.Signed (c.Temp 2) (c.Const 1))) (c.Then c.Continue c.End))) (c.Then c.Break c.End)) c.End)) (c.Then (c.Set 0 (c.Binary two.Lt kind.Signed (c.Const 2) (c.Const 2))) (c.Then (c.Set 0 (c.Binary two.Add kind.Signed (c.Temp 2) (c.Const 1))) (c.Then (c.OnLock lock.Acquire (c.Address (root.Global name_l 1) c.Here)) (c.Then (c.OnLock lock.Free (c.Address (root.Global name_l 1) c.Here)) (c.Then (c.Return (Some (c.Const 7))) c.End)))))))))))) }) (s.Then 1 (s.Set ([]) ([])) s.NoBlock (s.Then 2 (s.MakeLock 2 (record { name = name_iv; args = ([]) }) ([]) ([])) s.NoBlock (s.Then 3 (s.Fold name_iv 0 ([]) ((Number (pos 3)) ∷ []) ([])) s.NoBlock (s.Then 4 (s.Release 2 3 ([])) s.NoBlock (s.Then 5 (s.Set ([]) ([])) s.NoBlock (s.Then 6 (s.Set ([]) ([])) s.NoBlock (s.Then 7 (s.Set ([]) ([])) s.NoBlock (s.Then 8 (s.Set ([]) ([])) s.NoBlock (s.Then 9 (s.While (record { opened = (sort.Int ∷ sort.List ∷ []); facts = ((Rel relation.Le (Number (pos 0)) (Var 0 sort.Int)) ∷ (Rel relation.Le (Var 0 sort.Int) (Number (pos 3))) ∷ (Rel relation.Eq (Of unary.Len (Var 1 sort.List)) (Number (pos 4))) ∷ []); locals = ((name_s, (Of unary.Vi (Number (pos 0)))) ∷ (name_t, (Of unary.Vi (Number (pos 1)))) ∷ (name_i, (Of unary.Vi (Var 0 sort.Int))) ∷ (name_x1, (Of unary.Vi (Number (pos 4294967295)))) ∷ []); items = ((Data (Number (pos 64)) (Global name_arr) (Var 1 sort.List)) ∷ (Lock (Number (pos 64)) (Global name_l) (record { name = name_iv; args = ([]) })) ∷ []) }) (record { opened = (sort.Int ∷ sort.List ∷ []); facts = ((Rel relation.Le (Number (pos 0)) (Var 0 sort.Int)) ∷ (Rel relation.Le (Var 0 sort.Int) (Number (pos 3))) ∷ (Rel relation.Eq (Of unary.Len (Var 1 sort.List)) (Number (pos 4))) ∷ (Rel relation.Le (Number (pos 3)) (Var 0 sort.Int)) ∷ []); locals = ((name_s, (Of unary.Vi (Number (pos 0)))) ∷ (name_t, (Of unary.Vi (Number (pos 1)))) ∷ (name_i, (Of unary.Vi (Var 0 sort.Int))) ∷ (name_x1, (Of unary.Vi (Number (pos 4294967295)))) ∷ []); items = ((Data (Number (pos 64)) (Global name_arr) (Var 1 sort.List)) ∷ (Lock (Number (pos 64)) (Global name_l) (record { name = name_iv; args = ([]) })) ∷ []) }) (name_k3 ∷ name_k4 ∷ []) ([]) (name_k1 ∷ name_k2 ∷ [])) (s.WithBlock (s.Then 10 (s.Meet ((Number (pos 0)) ∷ (Of2 binary.Cons (Of unary.Vi (Number (pos 1))) (Of2 binary.Cons (Of unary.Vi (Number (pos 2))) (Of2 binary.Cons (Of unary.Vi (Number (pos 0))) (Of2 binary.Cons (Of unary.Vi (Number (pos 0))) Nil)))) ∷ []) ([])) s.NoBlock s.End) (s.WithBlock (s.Then 11 (s.If ([]) ((record { lines = ((line.Comb (((pos 1), 0) ∷ ((pos 1), 4) ∷ [])) ∷ []) }) ∷ (record { lines = ((line.Comb (((pos 1), 1) ∷ ((pos 1), 4) ∷ [])) ∷ []) }) ∷ []) ([]) ([])) (s.WithBlock (s.Then 12 (s.Store 0 ([]) ((record { lines = ((line.Comb (((pos 1), 0) ∷ ((pos 1), 5) ∷ [])) ∷ []) }) ∷ (record { lines = ((line.Comb (((pos 1), 1) ∷ ((pos 1), 5) ∷ [])) ∷ []) }) ∷ (record { lines = ((line.Comb (((pos 1), 1) ∷ ((pos 1), 3) ∷ ((pos 1), 5) ∷ [])) ∷ []) }) ∷ [])) s.NoBlock (s.Then 13 (s.Law name_len_upd ((Named name_k2) ∷ (Named name_k1) ∷ (Of unary.Vi (Named name_k1)) ∷ []) ([])) s.NoBlock (s.Then 14 (s.Set ([]) ((record { lines = ((line.Comb (((pos 1), 0) ∷ ((pos 1), 7) ∷ [])) ∷ []) }) ∷ (record { lines = ((line.Comb (((pos 1), 1) ∷ ((pos 1), 7) ∷ [])) ∷ []) }) ∷ (record { lines = ((line.Comb (((pos 1), 0) ∷ ((pos 1), 7) ∷ [])) ∷ []) }) ∷ (record { lines = ((line.Comb (((pos 1), 1) ∷ ((pos 1), 7) ∷ [])) ∷ []) }) ∷ [])) s.NoBlock (s.Then 15 (s.Continue ((Of2 binary.Add (Named name_k1) (Number (pos 1))) ∷ (Of3 ternary.Upd (Named name_k2) (Named name_k1) (Of unary.Vi (Named name_k1))) ∷ []) ((record { lines = ((line.Comb (((pos 1), 0) ∷ ((pos 1), 7) ∷ [])) ∷ []) }) ∷ (record { lines = ((line.Comb (((pos 1), 5) ∷ ((pos 1), 2) ∷ ((pos 1), 7) ∷ [])) ∷ []) }) ∷ (record { lines = ((line.Comb (((pos 1), 6) ∷ ((pos 1), 3) ∷ ((pos 1), 7) ∷ [])) ∷ []) }) ∷ [])) s.NoBlock s.End)))) (s.WithBlock (s.Then 16 (s.Break ((Named name_k1) ∷ (Named name_k2) ∷ []) ([])) s.NoBlock s.End) s.NoBlock)) s.End) s.NoBlock)) (s.Then 17 (s.Set ([]) ([])) s.NoBlock (s.Then 18 (s.Set ([]) ((record { lines = ((line.Comb (((pos 1), 0) ∷ ((pos 1), 5) ∷ [])) ∷ []) }) ∷ (record { lines = ((line.Comb (((pos 1), 1) ∷ ((pos 1), 5) ∷ [])) ∷ []) }) ∷ (record { lines = ((line.Comb (((pos 1), 0) ∷ ((pos 1), 5) ∷ [])) ∷ []) }) ∷ (record { lines = ((line.Comb (((pos 1), 1) ∷ ((pos 1), 5) ∷ [])) ∷ []) }) ∷ [])) s.NoBlock (s.Then 19 (s.Acquire 1 ([])) s.NoBlock (s.Then 20 (s.Unfold 3 ((name_k5 ∷ []) ∷ [])) (s.WithBlock (s.Then 21 (s.FreeLock 1 2 ([]) ([])) s.NoBlock (s.Then 22 (s.Return ((Named name_k4) ∷ (Of2 binary.Cons (Of unary.Vi (Named name_k5)) Nil) ∷ (Of2 binary.Cons Undef Nil) ∷ []) ([]) ([])) s.NoBlock s.End)) s.NoBlock) s.End))))))))))))) ≡ (RefusedAt 1 2 1)
unfolding computing
random_331 = refl

random_332 : body_verdict (record { predicates = ((record { name = name_iv; args = ([]); cases = ((record { opened = (sort.Int ∷ []); facts = ((Rel relation.Le (Number (pos 0)) (Var 0 sort.Int)) ∷ (Rel relation.Le (Var 0 sort.Int) (Number (pos 50))) ∷ []); locals = []; items = ((Data (Number (pos 64)) (Global name_x) (Of2 binary.Cons (Of unary.Vi (Var 0 sort.Int)) Nil)) ∷ []) }) ∷ []) }) ∷ []); specs = ((record { is_void = false; name = name_main; params = ([]); vars = []; pre = (record { opened = []; facts = ([]); locals = []; items = ((Data (Number (pos 64)) (Global name_arr) (Of2 binary.Cons (Of unary.Vi (Number (pos 1))) (Of2 binary.Cons (Of unary.Vi (Number (pos 2))) (Of2 binary.Cons (Of unary.Vi (Number (pos 0))) (Of2 binary.Cons (Of unary.Vi (Number (pos 0))) Nil))))) ∷ (Data (Number (pos 64)) (Global name_x) (Of2 binary.Cons (Of unary.Vi (Number (pos 3))) Nil)) ∷ (Data (Number (pos 64)) (Global name_l) (Of2 binary.Cons (Of unary.Vi (Number (pos 0))) Nil)) ∷ []) }); post = (record { opened = (sort.List ∷ sort.List ∷ sort.List ∷ []); facts = ([]); locals = []; items = ((Data (Number (pos 64)) (Global name_arr) (Var 1 sort.List)) ∷ (Data (Number (pos 64)) (Global name_x) (Var 2 sort.List)) ∷ (Data (Number (pos 64)) (Global name_l) (Var 3 sort.List)) ∷ []) }) }) ∷ []) }) (record { is_void = false; name = name_main; params = ([]); vars = []; pre = (record { opened = []; facts = ([]); locals = []; items = ((Data (Number (pos 64)) (Global name_arr) (Of2 binary.Cons (Of unary.Vi (Number (pos 1))) (Of2 binary.Cons (Of unary.Vi (Number (pos 2))) (Of2 binary.Cons (Of unary.Vi (Number (pos 0))) (Of2 binary.Cons (Of unary.Vi (Number (pos 0))) Nil))))) ∷ (Data (Number (pos 64)) (Global name_x) (Of2 binary.Cons (Of unary.Vi (Number (pos 3))) Nil)) ∷ (Data (Number (pos 64)) (Global name_l) (Of2 binary.Cons (Of unary.Vi (Number (pos 0))) Nil)) ∷ []) }); post = (record { opened = (sort.List ∷ sort.List ∷ sort.List ∷ []); facts = ([]); locals = []; items = ((Data (Number (pos 64)) (Global name_arr) (Var 1 sort.List)) ∷ (Data (Number (pos 64)) (Global name_x) (Var 2 sort.List)) ∷ (Data (Number (pos 64)) (Global name_l) (Var 3 sort.List)) ∷ []) }) }) (record { temps = (name_s ∷ name_t ∷ name_i ∷ name_x1 ∷ name_d0 ∷ name_p1 ∷ name_q1 ∷ []); body = (c.Then (c.Set 1 (c.Const 3)) (c.Then (c.OnLock lock.Make (c.Address (root.Global name_l 1) c.Here)) (c.Then (c.OnLock lock.Release (c.Address (root.Global name_l 1) c.Here)) (c.Then (c.Set 0 (c.Binary two.Eq kind.Signed (c.Const 2) (c.Const 1))) (c.Then (c.Set 3 (c.Unary one.Invert kind.Unsigned (c.Const 0))) (c.Then (c.Set 1 (c.Const 1)) (c.Then (c.Set 2 (c.Const 0)) (c.Then (c.Loop (c.Then (c.If (c.Nonzero kind.Signed (c.Binary two.Lt kind.Signed (c.Temp 2) (c.Const 3))) (c.Then (c.Store (root.Global name_arr 4) (c.Index kind.Signed (c.Temp 2) c.Here) (c.Temp 2)) (c.Then (c.Set 0 (c.Binary two.Eq kind.Signed (c.Const 2) (c.Const 1))) (c.Then (c.Set 2 (c.Binary two.Add kind.Signed (c.Temp 2) (c.Const 1))) (c.Then c.Continue c.End)))) (c.Then c.Break c.End)) c.End)) (c.Then (c.Set 0 (c.Binary two.Lt kind.Signed (c.Const 2) (c.Const 2))) (c.Then (c.Set 0 (c.Binary two.Add kind.Signed (c.Temp 2) (c.Const 1))) (c.Then (c.OnLock lock.Acquire (c.Address (root.Global name_l 1) c.Here)) (c.Then (c.OnLock lock.Free (c.Address (root.Global name_l 1) c.Here)) (c.Then (c.Return (Some (c.Const 7))) c.End))))))))))))) }) (s.Then 1 (s.Set ([]) ([])) s.NoBlock (s.Then 2 (s.MakeLock 2 (record { name = name_iv; args = ([]) }) ([]) ([])) s.NoBlock (s.Then 3 (s.Fold name_iv 0 ([]) ((Number (pos 3)) ∷ []) ([])) s.NoBlock (s.Then 4 (s.Release 2 3 ([])) s.NoBlock (s.Then 5 (s.Set ([]) ([])) s.NoBlock (s.Then 6 (s.Set ([]) ([])) s.NoBlock (s.Then 7 (s.Set ([]) ([])) s.NoBlock (s.Then 8 (s.Set ([]) ([])) s.NoBlock (s.Then 9 (s.While (record { opened = (sort.Int ∷ sort.List ∷ []); facts = ((Rel relation.Le (Number (pos 0)) (Var 0 sort.Int)) ∷ (Rel relation.Le (Var 0 sort.Int) (Number (pos 3))) ∷ (Rel relation.Eq (Of unary.Len (Var 1 sort.List)) (Number (pos 4))) ∷ []); locals = ((name_s, (Of unary.Vi (Number (pos 0)))) ∷ (name_t, (Of unary.Vi (Number (pos 1)))) ∷ (name_i, (Of unary.Vi (Var 0 sort.Int))) ∷ (name_x1, (Of unary.Vi (Number (pos 4294967295)))) ∷ []); items = ((Data (Number (pos 64)) (Global name_arr) (Var 1 sort.List)) ∷ (Lock (Number (pos 64)) (Global name_l) (record { name = name_iv; args = ([]) })) ∷ []) }) (record { opened = (sort.Int ∷ sort.List ∷ []); facts = ((Rel relation.Le (Number (pos 0)) (Var 0 sort.Int)) ∷ (Rel relation.Le (Var 0 sort.Int) (Number (pos 3))) ∷ (Rel relation.Eq (Of unary.Len (Var 1 sort.List)) (Number (pos 4))) ∷ (Rel relation.Le (Number (pos 3)) (Var 0 sort.Int)) ∷ []); locals = ((name_s, (Of unary.Vi (Number (pos 0)))) ∷ (name_t, (Of unary.Vi (Number (pos 1)))) ∷ (name_i, (Of unary.Vi (Var 0 sort.Int))) ∷ (name_x1, (Of unary.Vi (Number (pos 4294967295)))) ∷ []); items = ((Data (Number (pos 64)) (Global name_arr) (Var 1 sort.List)) ∷ (Lock (Number (pos 64)) (Global name_l) (record { name = name_iv; args = ([]) })) ∷ []) }) (name_k3 ∷ name_k4 ∷ []) ([]) (name_k1 ∷ name_k2 ∷ [])) (s.WithBlock (s.Then 10 (s.Meet ((Number (pos 0)) ∷ (Of2 binary.Cons (Of unary.Vi (Number (pos 1))) (Of2 binary.Cons (Of unary.Vi (Number (pos 2))) (Of2 binary.Cons (Of unary.Vi (Number (pos 0))) (Of2 binary.Cons (Of unary.Vi (Number (pos 0))) Nil)))) ∷ []) ([])) s.NoBlock s.End) (s.WithBlock (s.Then 11 (s.If ([]) ((record { lines = ((line.Comb (((pos 1), 0) ∷ ((pos 1), 4) ∷ [])) ∷ []) }) ∷ (record { lines = ((line.Comb (((pos 1), 1) ∷ ((pos 1), 4) ∷ [])) ∷ []) }) ∷ []) ([]) ([])) (s.WithBlock (s.Then 12 (s.Store 0 ([]) ((record { lines = ((line.Comb (((pos 1), 0) ∷ ((pos 1), 5) ∷ [])) ∷ []) }) ∷ (record { lines = ((line.Comb (((pos 1), 1) ∷ ((pos 1), 5) ∷ [])) ∷ []) }) ∷ (record { lines = ((line.Comb (((pos 1), 1) ∷ ((pos 1), 3) ∷ ((pos 1), 5) ∷ [])) ∷ []) }) ∷ [])) s.NoBlock (s.Then 13 (s.Law name_len_upd ((Named name_k2) ∷ (Named name_k1) ∷ (Of unary.Vi (Named name_k1)) ∷ []) ([])) s.NoBlock (s.Then 14 (s.Set ([]) ((record { lines = ((line.Comb (((pos 1), 0) ∷ ((pos 1), 7) ∷ [])) ∷ []) }) ∷ (record { lines = ((line.Comb (((pos 1), 1) ∷ ((pos 1), 7) ∷ [])) ∷ []) }) ∷ (record { lines = ((line.Comb (((pos 1), 0) ∷ ((pos 1), 7) ∷ [])) ∷ []) }) ∷ (record { lines = ((line.Comb (((pos 1), 1) ∷ ((pos 1), 7) ∷ [])) ∷ []) }) ∷ [])) s.NoBlock (s.Then 15 (s.Continue ((Of2 binary.Add (Named name_k1) (Number (pos 1))) ∷ (Of3 ternary.Upd (Named name_k2) (Named name_k1) (Of unary.Vi (Named name_k1))) ∷ []) ((record { lines = ((line.Comb (((pos 1), 0) ∷ ((pos 1), 7) ∷ [])) ∷ []) }) ∷ (record { lines = ((line.Comb (((pos 1), 5) ∷ ((pos 1), 2) ∷ ((pos 1), 7) ∷ [])) ∷ []) }) ∷ (record { lines = ((line.Comb (((pos 1), 6) ∷ ((pos 1), 3) ∷ ((pos 1), 7) ∷ [])) ∷ []) }) ∷ [])) s.NoBlock s.End)))) (s.WithBlock (s.Then 16 (s.Break ((Named name_k1) ∷ (Named name_k2) ∷ []) ([])) s.NoBlock s.End) s.NoBlock)) s.End) s.NoBlock)) (s.Then 17 (s.Set ([]) ((record { lines = ((line.Comb (((pos 1), 0) ∷ ((pos 1), 5) ∷ [])) ∷ []) }) ∷ (record { lines = ((line.Comb (((pos 1), 1) ∷ ((pos 1), 5) ∷ [])) ∷ []) }) ∷ (record { lines = ((line.Comb (((pos 1), 0) ∷ ((pos 1), 5) ∷ [])) ∷ []) }) ∷ (record { lines = ((line.Comb (((pos 1), 1) ∷ ((pos 1), 5) ∷ [])) ∷ []) }) ∷ [])) s.NoBlock (s.Then 18 (s.Acquire 1 ([])) s.NoBlock (s.Then 19 (s.Unfold 3 ((name_k5 ∷ []) ∷ [])) (s.WithBlock (s.Then 20 (s.FreeLock 1 2 ([]) ([])) s.NoBlock (s.Then 21 (s.Return ((Named name_k4) ∷ (Of2 binary.Cons (Of unary.Vi (Named name_k5)) Nil) ∷ (Of2 binary.Cons Undef Nil) ∷ []) ([]) ([])) s.NoBlock s.End)) s.NoBlock) s.End)))))))))))) ≡ (RefusedAt 14 2 3)
unfolding computing
random_332 = refl

random_333 : body_verdict (record { predicates = ((record { name = name_iv; args = ([]); cases = ((record { opened = (sort.Int ∷ []); facts = ((Rel relation.Le (Number (pos 0)) (Var 0 sort.Int)) ∷ (Rel relation.Le (Var 0 sort.Int) (Number (pos 50))) ∷ []); locals = []; items = ((Data (Number (pos 64)) (Global name_x) (Of2 binary.Cons (Of unary.Vi (Var 0 sort.Int)) Nil)) ∷ []) }) ∷ []) }) ∷ []); specs = ((record { is_void = false; name = name_main; params = ([]); vars = []; pre = (record { opened = []; facts = ([]); locals = []; items = ((Data (Number (pos 64)) (Global name_arr) (Of2 binary.Cons (Of unary.Vi (Number (pos 1))) (Of2 binary.Cons (Of unary.Vi (Number (pos 2))) (Of2 binary.Cons (Of unary.Vi (Number (pos 0))) (Of2 binary.Cons (Of unary.Vi (Number (pos 0))) Nil))))) ∷ (Data (Number (pos 64)) (Global name_x) (Of2 binary.Cons (Of unary.Vi (Number (pos 3))) Nil)) ∷ (Data (Number (pos 64)) (Global name_l) (Of2 binary.Cons (Of unary.Vi (Number (pos 0))) Nil)) ∷ []) }); post = (record { opened = (sort.List ∷ sort.List ∷ sort.List ∷ []); facts = ([]); locals = []; items = ((Data (Number (pos 64)) (Global name_arr) (Var 1 sort.List)) ∷ (Data (Number (pos 64)) (Global name_x) (Var 2 sort.List)) ∷ (Data (Number (pos 64)) (Global name_l) (Var 3 sort.List)) ∷ []) }) }) ∷ []) }) (record { is_void = false; name = name_main; params = ([]); vars = []; pre = (record { opened = []; facts = ([]); locals = []; items = ((Data (Number (pos 64)) (Global name_arr) (Of2 binary.Cons (Of unary.Vi (Number (pos 1))) (Of2 binary.Cons (Of unary.Vi (Number (pos 2))) (Of2 binary.Cons (Of unary.Vi (Number (pos 0))) (Of2 binary.Cons (Of unary.Vi (Number (pos 0))) Nil))))) ∷ (Data (Number (pos 64)) (Global name_x) (Of2 binary.Cons (Of unary.Vi (Number (pos 3))) Nil)) ∷ (Data (Number (pos 64)) (Global name_l) (Of2 binary.Cons (Of unary.Vi (Number (pos 0))) Nil)) ∷ []) }); post = (record { opened = (sort.List ∷ sort.List ∷ sort.List ∷ []); facts = ([]); locals = []; items = ((Data (Number (pos 64)) (Global name_arr) (Var 1 sort.List)) ∷ (Data (Number (pos 64)) (Global name_x) (Var 2 sort.List)) ∷ (Data (Number (pos 64)) (Global name_l) (Var 3 sort.List)) ∷ []) }) }) (record { temps = (name_s ∷ name_t ∷ name_i ∷ name_x1 ∷ name_d0 ∷ name_p1 ∷ name_q1 ∷ []); body = (c.Then (c.Set 1 (c.Const 3)) (c.Then (c.OnLock lock.Make (c.Address (root.Global name_l 1) c.Here)) (c.Then (c.OnLock lock.Release (c.Address (root.Global name_l 1) c.Here)) (c.Then (c.Set 0 (c.Binary two.Eq kind.Signed (c.Const 2) (c.Const 1))) (c.Then (c.Set 3 (c.Unary one.Invert kind.Unsigned (c.Const 0))) (c.Then (c.Set 1 (c.Const 1)) (c.Then (c.Set 2 (c.Const 0)) (c.Then (c.Loop (c.Then (c.If (c.Nonzero kind.Signed (c.Binary two.Lt kind.Signed (c.Temp 2) (c.Const 3))) (c.Then (c.Store (root.Global name_arr 4) (c.Index kind.Signed (c.Temp 2) c.Here) (c.Temp 2)) (c.Then (c.Set 2 (c.Binary two.Add kind.Signed (c.Temp 2) (c.Const 1))) (c.Then c.Continue c.End))) (c.Then c.Break c.End)) c.End)) (c.Then (c.Set 0 (c.Binary two.Lt kind.Signed (c.Const 2) (c.Const 2))) (c.Then (c.Set 0 (c.Binary two.Add kind.Signed (c.Temp 2) (c.Const 1))) (c.Then (c.OnLock lock.Acquire (c.Address (root.Global name_l 1) c.Here)) (c.Then (c.OnLock lock.Free (c.Address (root.Global name_l 1) c.Here)) (c.Then (c.Return (Some (c.Const 7))) c.End))))))))))))) }) (s.Then 1 (s.Set ([]) ([])) s.NoBlock (s.Then 2 (s.MakeLock 2 (record { name = name_iv; args = ([]) }) ([]) ([])) s.NoBlock (s.Then 3 (s.Fold name_iv 0 ([]) ((Number (pos 3)) ∷ []) ([])) s.NoBlock (s.Then 4 (s.Release 2 3 ([])) s.NoBlock (s.Then 5 (s.Set ([]) ([])) s.NoBlock (s.Then 6 (s.Set ([]) ([])) s.NoBlock (s.Then 7 (s.Set ([]) ([])) s.NoBlock (s.Then 8 (s.Set ([]) ([])) s.NoBlock (s.Then 9 (s.While (record { opened = (sort.Int ∷ sort.List ∷ []); facts = ((Rel relation.Le (Number (pos 0)) (Var 0 sort.Int)) ∷ (Rel relation.Le (Var 0 sort.Int) (Number (pos 3))) ∷ (Rel relation.Eq (Of unary.Len (Var 1 sort.List)) (Number (pos 4))) ∷ []); locals = ((name_s, (Of unary.Vi (Number (pos 0)))) ∷ (name_t, (Of unary.Vi (Number (pos 1)))) ∷ (name_i, (Of unary.Vi (Var 0 sort.Int))) ∷ (name_x1, (Of unary.Vi (Number (pos 4294967295)))) ∷ []); items = ((Data (Number (pos 64)) (Global name_arr) (Var 1 sort.List)) ∷ (Lock (Number (pos 64)) (Global name_l) (record { name = name_iv; args = ([]) })) ∷ []) }) (record { opened = (sort.Int ∷ sort.List ∷ []); facts = ((Rel relation.Le (Number (pos 0)) (Var 0 sort.Int)) ∷ (Rel relation.Le (Var 0 sort.Int) (Number (pos 3))) ∷ (Rel relation.Eq (Of unary.Len (Var 1 sort.List)) (Number (pos 4))) ∷ (Rel relation.Le (Number (pos 3)) (Var 0 sort.Int)) ∷ []); locals = ((name_s, (Of unary.Vi (Number (pos 0)))) ∷ (name_t, (Of unary.Vi (Number (pos 1)))) ∷ (name_i, (Of unary.Vi (Var 0 sort.Int))) ∷ (name_x1, (Of unary.Vi (Number (pos 4294967295)))) ∷ []); items = ((Data (Number (pos 64)) (Global name_arr) (Var 1 sort.List)) ∷ (Lock (Number (pos 64)) (Global name_l) (record { name = name_iv; args = ([]) })) ∷ []) }) (name_k3 ∷ name_k4 ∷ []) ([]) (name_k1 ∷ name_k2 ∷ [])) (s.WithBlock (s.Then 10 (s.Meet ((Number (pos 0)) ∷ (Of2 binary.Cons (Of unary.Vi (Number (pos 1))) (Of2 binary.Cons (Of unary.Vi (Number (pos 2))) (Of2 binary.Cons (Of unary.Vi (Number (pos 0))) (Of2 binary.Cons (Of unary.Vi (Number (pos 0))) Nil)))) ∷ []) ([])) s.NoBlock s.End) (s.WithBlock (s.Then 11 (s.If ([]) ((record { lines = ((line.Comb (((pos 1), 0) ∷ ((pos 1), 4) ∷ [])) ∷ []) }) ∷ (record { lines = ((line.Comb (((pos 1), 1) ∷ ((pos 1), 4) ∷ [])) ∷ []) }) ∷ []) ([]) ([])) (s.WithBlock (s.Then 12 (s.Store 0 ([]) ((record { lines = ((line.Comb (((pos 1), 0) ∷ ((pos 1), 5) ∷ [])) ∷ []) }) ∷ (record { lines = ((line.Comb (((pos 1), 1) ∷ ((pos 1), 5) ∷ [])) ∷ []) }) ∷ (record { lines = ((line.Comb (((pos 1), 1) ∷ ((pos 1), 3) ∷ ((pos 1), 5) ∷ [])) ∷ []) }) ∷ [])) s.NoBlock (s.Then 13 (s.Set ([]) ((record { lines = ((line.Comb (((pos 1), 0) ∷ ((pos 1), 7) ∷ [])) ∷ []) }) ∷ (record { lines = ((line.Comb (((pos 1), 1) ∷ ((pos 1), 7) ∷ [])) ∷ []) }) ∷ (record { lines = ((line.Comb (((pos 1), 0) ∷ ((pos 1), 7) ∷ [])) ∷ []) }) ∷ (record { lines = ((line.Comb (((pos 1), 1) ∷ ((pos 1), 7) ∷ [])) ∷ []) }) ∷ [])) s.NoBlock (s.Then 14 (s.Continue ((Of2 binary.Add (Named name_k1) (Number (pos 1))) ∷ (Of3 ternary.Upd (Named name_k2) (Named name_k1) (Of unary.Vi (Named name_k1))) ∷ []) ((record { lines = ((line.Comb (((pos 1), 0) ∷ ((pos 1), 7) ∷ [])) ∷ []) }) ∷ (record { lines = ((line.Comb (((pos 1), 5) ∷ ((pos 1), 2) ∷ ((pos 1), 7) ∷ [])) ∷ []) }) ∷ (record { lines = ((line.Comb (((pos 1), 6) ∷ ((pos 1), 3) ∷ ((pos 1), 7) ∷ [])) ∷ []) }) ∷ [])) s.NoBlock s.End))) (s.WithBlock s.End s.NoBlock)) s.End) s.NoBlock)) (s.Then 15 (s.Set ([]) ([])) s.NoBlock (s.Then 16 (s.Set ([]) ((record { lines = ((line.Comb (((pos 1), 0) ∷ ((pos 1), 5) ∷ [])) ∷ []) }) ∷ (record { lines = ((line.Comb (((pos 1), 1) ∷ ((pos 1), 5) ∷ [])) ∷ []) }) ∷ (record { lines = ((line.Comb (((pos 1), 0) ∷ ((pos 1), 5) ∷ [])) ∷ []) }) ∷ (record { lines = ((line.Comb (((pos 1), 1) ∷ ((pos 1), 5) ∷ [])) ∷ []) }) ∷ [])) s.NoBlock (s.Then 17 (s.Acquire 1 ([])) s.NoBlock (s.Then 18 (s.Unfold 3 ((name_k5 ∷ []) ∷ [])) (s.WithBlock (s.Then 19 (s.FreeLock 1 2 ([]) ([])) s.NoBlock (s.Then 20 (s.Return ((Named name_k4) ∷ (Of2 binary.Cons (Of unary.Vi (Named name_k5)) Nil) ∷ (Of2 binary.Cons Undef Nil) ∷ []) ([]) ([])) s.NoBlock s.End)) s.NoBlock) s.End))))))))))))) ≡ (RefusedAt 13 2 3)
unfolding computing
random_333 = refl

random_334 : body_verdict (record { predicates = ((record { name = name_iv; args = ([]); cases = ((record { opened = (sort.Int ∷ []); facts = ((Rel relation.Le (Number (pos 0)) (Var 0 sort.Int)) ∷ (Rel relation.Le (Var 0 sort.Int) (Number (pos 50))) ∷ []); locals = []; items = ((Data (Number (pos 64)) (Global name_x) (Of2 binary.Cons (Of unary.Vi (Var 0 sort.Int)) Nil)) ∷ []) }) ∷ []) }) ∷ []); specs = ((record { is_void = false; name = name_main; params = ([]); vars = []; pre = (record { opened = []; facts = ([]); locals = []; items = ((Data (Number (pos 64)) (Global name_arr) (Of2 binary.Cons (Of unary.Vi (Number (pos 1))) (Of2 binary.Cons (Of unary.Vi (Number (pos 2))) (Of2 binary.Cons (Of unary.Vi (Number (pos 0))) (Of2 binary.Cons (Of unary.Vi (Number (pos 0))) Nil))))) ∷ (Data (Number (pos 64)) (Global name_x) (Of2 binary.Cons (Of unary.Vi (Number (pos 3))) Nil)) ∷ (Data (Number (pos 64)) (Global name_l) (Of2 binary.Cons (Of unary.Vi (Number (pos 0))) Nil)) ∷ []) }); post = (record { opened = (sort.List ∷ sort.List ∷ sort.List ∷ []); facts = ([]); locals = []; items = ((Data (Number (pos 64)) (Global name_arr) (Var 1 sort.List)) ∷ (Data (Number (pos 64)) (Global name_x) (Var 2 sort.List)) ∷ (Data (Number (pos 64)) (Global name_l) (Var 3 sort.List)) ∷ []) }) }) ∷ []) }) (record { is_void = false; name = name_main; params = ([]); vars = []; pre = (record { opened = []; facts = ([]); locals = []; items = ((Data (Number (pos 64)) (Global name_arr) (Of2 binary.Cons (Of unary.Vi (Number (pos 1))) (Of2 binary.Cons (Of unary.Vi (Number (pos 2))) (Of2 binary.Cons (Of unary.Vi (Number (pos 0))) (Of2 binary.Cons (Of unary.Vi (Number (pos 0))) Nil))))) ∷ (Data (Number (pos 64)) (Global name_x) (Of2 binary.Cons (Of unary.Vi (Number (pos 3))) Nil)) ∷ (Data (Number (pos 64)) (Global name_l) (Of2 binary.Cons (Of unary.Vi (Number (pos 0))) Nil)) ∷ []) }); post = (record { opened = (sort.List ∷ sort.List ∷ sort.List ∷ []); facts = ([]); locals = []; items = ((Data (Number (pos 64)) (Global name_arr) (Var 1 sort.List)) ∷ (Data (Number (pos 64)) (Global name_x) (Var 2 sort.List)) ∷ (Data (Number (pos 64)) (Global name_l) (Var 3 sort.List)) ∷ []) }) }) (record { temps = (name_s ∷ name_t ∷ name_i ∷ name_x1 ∷ name_d0 ∷ name_p1 ∷ name_q1 ∷ []); body = (c.Then (c.Set 1 (c.Const 3)) (c.Then (c.OnLock lock.Make (c.Address (root.Global name_l 1) c.Here)) (c.Then (c.OnLock lock.Release (c.Address (root.Global name_l 1) c.Here)) (c.Then (c.Set 0 (c.Binary two.Eq kind.Signed (c.Const 2) (c.Const 1))) (c.Then (c.Set 3 (c.Unary one.Invert kind.Unsigned (c.Const 0))) (c.Then (c.Set 1 (c.Const 1)) (c.Then (c.Set 2 (c.Const 0)) (c.Then (c.Loop (c.Then (c.If (c.Nonzero kind.Signed (c.Binary two.Lt kind.Signed (c.Temp 2) (c.Const 3))) (c.Then (c.Store (root.Global name_arr 4) (c.Index kind.Signed (c.Temp 2) c.Here) (c.Temp 2)) (c.Then (c.Set 2 (c.Binary two.Add kind.Signed (c.Temp 2) (c.Const 1))) (c.Then c.Continue c.End))) (c.Then c.Break c.End)) c.End)) (c.Then (c.Set 0 (c.Binary two.Lt kind.Signed (c.Const 2) (c.Const 2))) (c.Then (c.Set 0 (c.Binary two.Add kind.Signed (c.Temp 2) (c.Const 1))) (c.Then (c.OnLock lock.Acquire (c.Address (root.Global name_l 1) c.Here)) (c.Then (c.OnLock lock.Free (c.Address (root.Global name_l 1) c.Here)) (c.Then (c.Return (Some (c.Const 7))) c.End))))))))))))) }) (s.Then 1 (s.Set ([]) ([])) s.NoBlock (s.Then 2 (s.MakeLock 2 (record { name = name_iv; args = ([]) }) ([]) ([])) s.NoBlock (s.Then 3 (s.Fold name_iv 0 ([]) ((Number (pos 3)) ∷ []) ([])) s.NoBlock (s.Then 4 (s.Release 2 3 ([])) s.NoBlock (s.Then 5 (s.Set ([]) ([])) s.NoBlock (s.Then 6 (s.Set ([]) ([])) s.NoBlock (s.Then 7 (s.Set ([]) ([])) s.NoBlock (s.Then 8 (s.Set ([]) ([])) s.NoBlock (s.Then 9 (s.While (record { opened = (sort.Int ∷ sort.List ∷ []); facts = ((Rel relation.Le (Number (pos 0)) (Var 0 sort.Int)) ∷ (Rel relation.Le (Var 0 sort.Int) (Number (pos 3))) ∷ (Rel relation.Eq (Of unary.Len (Var 1 sort.List)) (Number (pos 4))) ∷ []); locals = ((name_s, (Of unary.Vi (Number (pos 0)))) ∷ (name_t, (Of unary.Vi (Number (pos 1)))) ∷ (name_i, (Of unary.Vi (Var 0 sort.Int))) ∷ (name_x1, (Of unary.Vi (Number (pos 4294967295)))) ∷ []); items = ((Data (Number (pos 64)) (Global name_arr) (Var 1 sort.List)) ∷ (Lock (Number (pos 64)) (Global name_l) (record { name = name_iv; args = ([]) })) ∷ []) }) (record { opened = (sort.Int ∷ sort.List ∷ []); facts = ((Rel relation.Le (Number (pos 0)) (Var 0 sort.Int)) ∷ (Rel relation.Le (Var 0 sort.Int) (Number (pos 3))) ∷ (Rel relation.Eq (Of unary.Len (Var 1 sort.List)) (Number (pos 4))) ∷ (Rel relation.Le (Number (pos 3)) (Var 0 sort.Int)) ∷ []); locals = ((name_s, (Of unary.Vi (Number (pos 0)))) ∷ (name_t, (Of unary.Vi (Number (pos 1)))) ∷ (name_i, (Of unary.Vi (Var 0 sort.Int))) ∷ (name_x1, (Of unary.Vi (Number (pos 4294967295)))) ∷ []); items = ((Data (Number (pos 64)) (Global name_arr) (Var 1 sort.List)) ∷ (Lock (Number (pos 64)) (Global name_l) (record { name = name_iv; args = ([]) })) ∷ []) }) (name_k3 ∷ name_k4 ∷ []) ([]) (name_k1 ∷ name_k2 ∷ [])) (s.WithBlock (s.Then 10 (s.Meet ((Number (pos 0)) ∷ (Of2 binary.Cons (Of unary.Vi (Number (pos 1))) (Of2 binary.Cons (Of unary.Vi (Number (pos 2))) (Of2 binary.Cons (Of unary.Vi (Number (pos 0))) (Of2 binary.Cons (Of unary.Vi (Number (pos 0))) Nil)))) ∷ []) ([])) s.NoBlock s.End) (s.WithBlock (s.Then 11 (s.If ([]) ((record { lines = ((line.Comb (((pos 1), 0) ∷ ((pos 1), 4) ∷ [])) ∷ []) }) ∷ (record { lines = ((line.Comb (((pos 1), 1) ∷ ((pos 1), 4) ∷ [])) ∷ []) }) ∷ []) ([]) ([])) (s.WithBlock (s.Then 12 (s.Store 0 ([]) ((record { lines = ((line.Comb (((pos 1), 0) ∷ ((pos 1), 5) ∷ [])) ∷ []) }) ∷ (record { lines = ((line.Comb (((pos 1), 1) ∷ ((pos 1), 5) ∷ [])) ∷ []) }) ∷ (record { lines = ((line.Comb (((pos 1), 1) ∷ ((pos 1), 3) ∷ ((pos 1), 5) ∷ [])) ∷ []) }) ∷ [])) s.NoBlock (s.Then 13 (s.Law name_len_upd ((Named name_k2) ∷ (Named name_k1) ∷ (Of unary.Vi (Named name_k1)) ∷ []) ([])) s.NoBlock (s.Then 14 (s.Set ([]) ((record { lines = ((line.Comb (((pos 1), 0) ∷ ((pos 1), 7) ∷ [])) ∷ []) }) ∷ (record { lines = ((line.Comb (((pos 1), 1) ∷ ((pos 1), 7) ∷ [])) ∷ []) }) ∷ (record { lines = ((line.Comb (((pos 1), 0) ∷ ((pos 1), 7) ∷ [])) ∷ []) }) ∷ (record { lines = ((line.Comb (((pos 1), 1) ∷ ((pos 1), 7) ∷ [])) ∷ []) }) ∷ [])) s.NoBlock (s.Then 15 (s.Continue ((Of2 binary.Add (Named name_k1) (Number (pos 1))) ∷ (Of3 ternary.Upd (Named name_k2) (Named name_k1) (Of unary.Vi (Named name_k1))) ∷ []) ((record { lines = ((line.Comb (((pos 1), 0) ∷ ((pos 1), 7) ∷ [])) ∷ []) }) ∷ (record { lines = ((line.Comb (((pos 1), 5) ∷ ((pos 1), 2) ∷ ((pos 1), 7) ∷ [])) ∷ []) }) ∷ (record { lines = ((line.Comb (((pos 1), 6) ∷ ((pos 1), 3) ∷ ((pos 1), 7) ∷ [])) ∷ []) }) ∷ [])) s.NoBlock s.End)))) (s.WithBlock (s.Then 16 (s.Break ((Named name_k1) ∷ (Named name_k2) ∷ []) ([])) s.NoBlock s.End) s.NoBlock)) s.End) s.NoBlock)) (s.Then 17 (s.Set ([]) ([])) s.NoBlock (s.Then 18 (s.Set ([]) ((record { lines = ((line.Comb (((pos 1), 0) ∷ ((pos 1), 5) ∷ [])) ∷ []) }) ∷ (record { lines = ((line.Comb (((pos 1), 1) ∷ ((pos 1), 5) ∷ [])) ∷ []) }) ∷ (record { lines = ((line.Comb (((pos 1), 0) ∷ ((pos 1), 5) ∷ [])) ∷ []) }) ∷ (record { lines = ((line.Comb (((pos 1), 1) ∷ ((pos 1), 5) ∷ [])) ∷ []) }) ∷ [])) s.NoBlock (s.Then 19 (s.Unfold 3 ((name_k5 ∷ []) ∷ [])) (s.WithBlock (s.Then 20 (s.FreeLock 1 2 ([]) ([])) s.NoBlock (s.Then 21 (s.Return ((Named name_k4) ∷ (Of2 binary.Cons (Of unary.Vi (Named name_k5)) Nil) ∷ (Of2 binary.Cons Undef Nil) ∷ []) ([]) ([])) s.NoBlock s.End)) s.NoBlock) s.End)))))))))))) ≡ (RefusedAt 19 22 1)
unfolding computing
random_334 = refl

random_335 : body_verdict (record { predicates = ([]); specs = ((record { is_void = false; name = name_pos; params = (name_n ∷ []); vars = ((name_a, sort.Int) ∷ []); pre = (record { opened = []; facts = ((Rel relation.Le (Number (pos 0)) (Var 0 sort.Int)) ∷ (Rel relation.Le (Var 0 sort.Int) (Number (pos 100))) ∷ []); locals = ((name_n, (Of unary.Vi (Var 0 sort.Int))) ∷ []); items = ([]) }); post = (record { opened = (sort.Int ∷ []); facts = ((Rel relation.Eq (Var 1 sort.Val) (Of unary.Vi (Var 2 sort.Int))) ∷ (Rel relation.Le (Number (pos 0)) (Var 2 sort.Int)) ∷ (Rel relation.Le (Var 2 sort.Int) (Var 0 sort.Int)) ∷ []); locals = []; items = ([]) }) }) ∷ (record { is_void = true; name = name_f; params = (name_u0 ∷ []); vars = ((name_b0, sort.Int) ∷ []); pre = (record { opened = []; facts = ([]); locals = ((name_u0, (Of unary.Vi (Var 0 sort.Int))) ∷ []); items = ([]) }); post = (record { opened = []; facts = ([]); locals = []; items = ([]) }) }) ∷ (record { is_void = false; name = name_main; params = ([]); vars = []; pre = (record { opened = []; facts = ([]); locals = []; items = ([]) }); post = (record { opened = []; facts = ((Rel relation.Eq (Var 0 sort.Val) (Of unary.Vi (Number (pos 0)))) ∷ []); locals = []; items = ([]) }) }) ∷ []) }) (record { is_void = true; name = name_f; params = (name_u0 ∷ []); vars = ((name_b0, sort.Int) ∷ []); pre = (record { opened = []; facts = ([]); locals = ((name_u0, (Of unary.Vi (Var 0 sort.Int))) ∷ []); items = ([]) }); post = (record { opened = []; facts = ([]); locals = []; items = ([]) }) }) (record { temps = (name_u0 ∷ name_s ∷ name_t ∷ name_i ∷ name_x1 ∷ name_d0 ∷ name_p1 ∷ name_q1 ∷ []); body = (c.Then (c.Set 1 (c.Const 2)) (c.Then (c.Set 2 (c.Const 3)) (c.Then (c.Set 1 (c.Binary two.Add kind.Signed (c.Temp 1) (c.Const 2))) (c.Then (c.Set 1 (c.Temp 1)) (c.Then (c.Set 2 (c.Binary two.Mul kind.Signed (c.Binary two.Add kind.Signed (c.Temp 2) (c.Const 2)) (c.Const 2))) (c.Then (c.Set 5 (c.Const 3)) (c.Then (c.Set 4 (c.Const 5)) (c.Then (c.Call (Some 2) name_pos ((c.Temp 2) ∷ [])) (c.Then (c.Return None) c.End))))))))) }) (s.Then 1 (s.Block 2 (record { opened = []; facts = ([]); locals = ((name_u0, (Of unary.Vi (Named name_b0))) ∷ (name_s, (Of unary.Vi (Number (pos 2)))) ∷ (name_t, (Of unary.Vi (Number (pos 3)))) ∷ []); items = ([]) }) ([]) ([])) (s.WithBlock (s.Then 2 (s.Set ([]) ([])) s.NoBlock (s.Then 3 (s.Set ([]) ([])) s.NoBlock (s.Then 4 (s.Fall ([]) ([])) s.NoBlock s.End))) s.NoBlock) (s.Then 5 (s.Set ([]) ([])) s.NoBlock (s.Then 6 (s.Set ([]) ([])) s.NoBlock (s.Then 7 (s.Set ([]) ([])) s.NoBlock (s.Then 8 (s.Set ([]) ([])) s.NoBlock (s.Then 9 (s.Set ([]) ([])) s.NoBlock (s.Then 10 (s.Set ([]) ([])) s.NoBlock (s.Then 11 (s.Call ((Number (pos 10)) ∷ []) ([]) ([]) (name_k1 ∷ name_k2 ∷ [])) s.NoBlock (s.Then 12 (s.Return ([]) ([]) ([])) s.NoBlock s.End))))))))) ≡ (RefusedAt 10 2 1)
unfolding computing
random_335 = refl

random_336 : body_verdict (record { predicates = ([]); specs = ((record { is_void = false; name = name_pos; params = (name_n ∷ []); vars = ((name_a, sort.Int) ∷ []); pre = (record { opened = []; facts = ((Rel relation.Le (Number (pos 0)) (Var 0 sort.Int)) ∷ (Rel relation.Le (Var 0 sort.Int) (Number (pos 100))) ∷ []); locals = ((name_n, (Of unary.Vi (Var 0 sort.Int))) ∷ []); items = ([]) }); post = (record { opened = (sort.Int ∷ []); facts = ((Rel relation.Eq (Var 1 sort.Val) (Of unary.Vi (Var 2 sort.Int))) ∷ (Rel relation.Le (Number (pos 0)) (Var 2 sort.Int)) ∷ (Rel relation.Le (Var 2 sort.Int) (Var 0 sort.Int)) ∷ []); locals = []; items = ([]) }) }) ∷ (record { is_void = true; name = name_f; params = (name_u0 ∷ []); vars = ((name_b0, sort.Int) ∷ []); pre = (record { opened = []; facts = ([]); locals = ((name_u0, (Of unary.Vi (Var 0 sort.Int))) ∷ []); items = ([]) }); post = (record { opened = []; facts = ([]); locals = []; items = ([]) }) }) ∷ (record { is_void = false; name = name_main; params = ([]); vars = []; pre = (record { opened = []; facts = ([]); locals = []; items = ([]) }); post = (record { opened = []; facts = ((Rel relation.Eq (Var 0 sort.Val) (Of unary.Vi (Number (pos 0)))) ∷ []); locals = []; items = ([]) }) }) ∷ []) }) (record { is_void = true; name = name_f; params = (name_u0 ∷ []); vars = ((name_b0, sort.Int) ∷ []); pre = (record { opened = []; facts = ([]); locals = ((name_u0, (Of unary.Vi (Var 0 sort.Int))) ∷ []); items = ([]) }); post = (record { opened = []; facts = ([]); locals = []; items = ([]) }) }) (record { temps = (name_u0 ∷ name_s ∷ name_t ∷ name_i ∷ name_x1 ∷ name_d0 ∷ name_p1 ∷ name_q1 ∷ []); body = (c.Then (c.Set 1 (c.Const 2)) (c.Then (c.Set 2 (c.Const 3)) (c.Then (c.Set 1 (c.Binary two.Add kind.Signed (c.Temp 1) (c.Const 2))) (c.Then (c.Set 1 (c.Temp 1)) (c.Then (c.Set 2 (c.Binary two.Mul kind.Signed (c.Binary two.Add kind.Signed (c.Temp 2) (c.Const 2)) (c.Const 2))) (c.Then (c.Set 5 (c.Const 3)) (c.Then (c.Set 4 (c.Const 5)) (c.Then (c.Call (Some 2) name_pos ((c.Temp 2) ∷ [])) (c.Then (c.Return None) c.End))))))))) }) (s.Then 1 (s.Block 2 (record { opened = []; facts = ([]); locals = ((name_u0, (Of unary.Vi (Named name_b0))) ∷ (name_s, (Of unary.Vi (Number (pos 2)))) ∷ (name_t, (Of unary.Vi (Number (pos 3)))) ∷ []); items = ([]) }) ([]) ([])) (s.WithBlock (s.Then 2 (s.Set ([]) ([])) s.NoBlock (s.Then 3 (s.Fall ([]) ([])) s.NoBlock s.End)) s.NoBlock) (s.Then 4 (s.Set ([]) ([])) s.NoBlock (s.Then 5 (s.Set ([]) ([])) s.NoBlock (s.Then 6 (s.Set ([]) ([])) s.NoBlock (s.Then 7 (s.Set ([]) ([])) s.NoBlock (s.Then 8 (s.Set ([]) ([])) s.NoBlock (s.Then 9 (s.Call ((Number (pos 10)) ∷ []) ([]) ([]) (name_k1 ∷ name_k2 ∷ [])) s.NoBlock (s.Then 10 (s.Return ([]) ([]) ([])) s.NoBlock s.End)))))))) ≡ (RefusedAt 3 10 1)
unfolding computing
random_336 = refl

random_337 : body_verdict (record { predicates = ([]); specs = ((record { is_void = false; name = name_pos; params = (name_n ∷ []); vars = ((name_a, sort.Int) ∷ []); pre = (record { opened = []; facts = ((Rel relation.Le (Number (pos 0)) (Var 0 sort.Int)) ∷ (Rel relation.Le (Var 0 sort.Int) (Number (pos 100))) ∷ []); locals = ((name_n, (Of unary.Vi (Var 0 sort.Int))) ∷ []); items = ([]) }); post = (record { opened = (sort.Int ∷ []); facts = ((Rel relation.Eq (Var 1 sort.Val) (Of unary.Vi (Var 2 sort.Int))) ∷ (Rel relation.Le (Number (pos 0)) (Var 2 sort.Int)) ∷ (Rel relation.Le (Var 2 sort.Int) (Var 0 sort.Int)) ∷ []); locals = []; items = ([]) }) }) ∷ (record { is_void = true; name = name_f; params = (name_u0 ∷ []); vars = ((name_b0, sort.Int) ∷ []); pre = (record { opened = []; facts = ([]); locals = ((name_u0, (Of unary.Vi (Var 0 sort.Int))) ∷ []); items = ([]) }); post = (record { opened = []; facts = ([]); locals = []; items = ([]) }) }) ∷ (record { is_void = false; name = name_main; params = ([]); vars = []; pre = (record { opened = []; facts = ([]); locals = []; items = ([]) }); post = (record { opened = []; facts = ((Rel relation.Eq (Var 0 sort.Val) (Of unary.Vi (Number (pos 0)))) ∷ []); locals = []; items = ([]) }) }) ∷ []) }) (record { is_void = true; name = name_f; params = (name_u0 ∷ []); vars = ((name_b0, sort.Int) ∷ []); pre = (record { opened = []; facts = ([]); locals = ((name_u0, (Of unary.Vi (Var 0 sort.Int))) ∷ []); items = ([]) }); post = (record { opened = []; facts = ([]); locals = []; items = ([]) }) }) (record { temps = (name_u0 ∷ name_s ∷ name_t ∷ name_i ∷ name_x1 ∷ name_d0 ∷ name_p1 ∷ name_q1 ∷ []); body = (c.Then (c.Set 1 (c.Const 2)) (c.Then (c.Set 2 (c.Const 3)) (c.Then (c.Set 1 (c.Binary two.Add kind.Signed (c.Temp 1) (c.Const 2))) (c.Then (c.Set 1 (c.Temp 1)) (c.Then (c.Set 2 (c.Binary two.Mul kind.Signed (c.Binary two.Add kind.Signed (c.Temp 2) (c.Const 2)) (c.Const 2))) (c.Then (c.Set 5 (c.Const 3)) (c.Then (c.Set 4 (c.Const 5)) (c.Then (c.Call (Some 2) name_pos ((c.Temp 2) ∷ [])) (c.Then (c.Return None) c.End))))))))) }) (s.Then 1 (s.Block 2 (record { opened = []; facts = ([]); locals = ((name_u0, (Of unary.Vi (Named name_b0))) ∷ (name_s, (Of unary.Vi (Number (pos 2)))) ∷ (name_t, (Of unary.Vi (Number (pos 3)))) ∷ []); items = ([]) }) ([]) ([])) (s.WithBlock (s.Then 2 (s.Set ([]) ([])) s.NoBlock (s.Then 3 (s.Set ([]) ([])) s.NoBlock (s.Then 4 (s.Fall ([]) ([])) s.NoBlock s.End))) s.NoBlock) (s.Then 5 (s.Set ([]) ([])) s.NoBlock (s.Then 6 (s.Set ([]) ([])) s.NoBlock (s.Then 7 (s.Set ([]) ([])) s.NoBlock (s.Then 8 (s.Set ([]) ([])) s.NoBlock (s.Then 9 (s.Call ((Number (pos 10)) ∷ []) ([]) ([]) (name_k1 ∷ name_k2 ∷ [])) s.NoBlock (s.Then 10 (s.Return ([]) ([]) ([])) s.NoBlock s.End))))))) ≡ (RefusedAt 9 13 1)
unfolding computing
random_337 = refl

random_338 : body_verdict (record { predicates = ([]); specs = ((record { is_void = false; name = name_pos; params = (name_n ∷ []); vars = ((name_a, sort.Int) ∷ []); pre = (record { opened = []; facts = ((Rel relation.Le (Number (pos 0)) (Var 0 sort.Int)) ∷ (Rel relation.Le (Var 0 sort.Int) (Number (pos 100))) ∷ []); locals = ((name_n, (Of unary.Vi (Var 0 sort.Int))) ∷ []); items = ([]) }); post = (record { opened = (sort.Int ∷ []); facts = ((Rel relation.Eq (Var 1 sort.Val) (Of unary.Vi (Var 2 sort.Int))) ∷ (Rel relation.Le (Number (pos 0)) (Var 2 sort.Int)) ∷ (Rel relation.Le (Var 2 sort.Int) (Var 0 sort.Int)) ∷ []); locals = []; items = ([]) }) }) ∷ (record { is_void = true; name = name_f; params = (name_u0 ∷ []); vars = ((name_b0, sort.Int) ∷ []); pre = (record { opened = []; facts = ([]); locals = ((name_u0, (Of unary.Vi (Var 0 sort.Int))) ∷ []); items = ([]) }); post = (record { opened = []; facts = ([]); locals = []; items = ([]) }) }) ∷ (record { is_void = false; name = name_main; params = ([]); vars = []; pre = (record { opened = []; facts = ([]); locals = []; items = ([]) }); post = (record { opened = []; facts = ((Rel relation.Eq (Var 0 sort.Val) (Of unary.Vi (Number (pos 0)))) ∷ []); locals = []; items = ([]) }) }) ∷ []) }) (record { is_void = true; name = name_f; params = (name_u0 ∷ []); vars = ((name_b0, sort.Int) ∷ []); pre = (record { opened = []; facts = ([]); locals = ((name_u0, (Of unary.Vi (Var 0 sort.Int))) ∷ []); items = ([]) }); post = (record { opened = []; facts = ([]); locals = []; items = ([]) }) }) (record { temps = (name_u0 ∷ name_s ∷ name_t ∷ name_i ∷ name_x1 ∷ name_d0 ∷ name_p1 ∷ name_q1 ∷ []); body = (c.Then (c.Set 1 (c.Const 2)) (c.Then (c.Set 2 (c.Const 3)) (c.Then (c.Set 1 (c.Binary two.Add kind.Signed (c.Temp 1) (c.Const 2))) (c.Then (c.Set 1 (c.Temp 1)) (c.Then (c.Set 2 (c.Binary two.Mul kind.Signed (c.Binary two.Add kind.Signed (c.Temp 2) (c.Const 2)) (c.Const 2))) (c.Then (c.Set 5 (c.Const 3)) (c.Then (c.Set 4 (c.Const 5)) (c.Then (c.Call (Some 2) name_pos ((c.Temp 2) ∷ [])) (c.Then (c.Return None) c.End))))))))) }) (s.Then 1 (s.Block 2 (record { opened = []; facts = ([]); locals = ((name_u0, (Of unary.Vi (Named name_u0))) ∷ (name_s, (Of unary.Vi (Number (pos 2)))) ∷ (name_t, (Of unary.Vi (Number (pos 3)))) ∷ []); items = ([]) }) ([]) ([])) (s.WithBlock (s.Then 2 (s.Set ([]) ([])) s.NoBlock (s.Then 3 (s.Set ([]) ([])) s.NoBlock (s.Then 4 (s.Fall ([]) ([])) s.NoBlock s.End))) s.NoBlock) (s.Then 5 (s.Set ([]) ([])) s.NoBlock (s.Then 6 (s.Set ([]) ([])) s.NoBlock (s.Then 7 (s.Set ([]) ([])) s.NoBlock (s.Then 8 (s.Set ([]) ([])) s.NoBlock (s.Then 9 (s.Set ([]) ([])) s.NoBlock (s.Then 10 (s.Call ((Number (pos 10)) ∷ []) ([]) ([]) (name_k1 ∷ name_k2 ∷ [])) s.NoBlock (s.Then 11 (s.Return ([]) ([]) ([])) s.NoBlock s.End)))))))) ≡ (RefusedAt 1 11 1)
unfolding computing
random_338 = refl

random_339 : body_verdict (record { predicates = ([]); specs = ((record { is_void = false; name = name_pos; params = (name_n ∷ []); vars = ((name_a, sort.Int) ∷ []); pre = (record { opened = []; facts = ((Rel relation.Le (Number (pos 0)) (Var 0 sort.Int)) ∷ (Rel relation.Le (Var 0 sort.Int) (Number (pos 100))) ∷ []); locals = ((name_n, (Of unary.Vi (Var 0 sort.Int))) ∷ []); items = ([]) }); post = (record { opened = (sort.Int ∷ []); facts = ((Rel relation.Eq (Var 1 sort.Val) (Of unary.Vi (Var 2 sort.Int))) ∷ (Rel relation.Le (Number (pos 0)) (Var 2 sort.Int)) ∷ (Rel relation.Le (Var 2 sort.Int) (Var 0 sort.Int)) ∷ []); locals = []; items = ([]) }) }) ∷ (record { is_void = true; name = name_f; params = (name_u0 ∷ []); vars = ((name_b0, sort.Int) ∷ []); pre = (record { opened = []; facts = ([]); locals = ((name_u0, (Of unary.Vi (Var 0 sort.Int))) ∷ []); items = ([]) }); post = (record { opened = []; facts = ([]); locals = []; items = ([]) }) }) ∷ (record { is_void = false; name = name_main; params = ([]); vars = []; pre = (record { opened = []; facts = ([]); locals = []; items = ([]) }); post = (record { opened = []; facts = ((Rel relation.Eq (Var 0 sort.Val) (Of unary.Vi (Number (pos 0)))) ∷ []); locals = []; items = ([]) }) }) ∷ []) }) (record { is_void = false; name = name_main; params = ([]); vars = []; pre = (record { opened = []; facts = ([]); locals = []; items = ([]) }); post = (record { opened = []; facts = ((Rel relation.Eq (Var 0 sort.Val) (Of unary.Vi (Number (pos 0)))) ∷ []); locals = []; items = ([]) }) }) (record { temps = ([]); body = (c.Then (c.Return (Some (c.Const 0))) c.End) }) s.End ≡ (RefusedAt 1 0 10)
unfolding computing
random_339 = refl

random_340 : body_verdict (record { predicates = ([]); specs = ((record { is_void = true; name = name_f; params = (name_p00 ∷ []); vars = ((name_v0, sort.Val) ∷ (name_o0, sort.Int) ∷ []); pre = (record { opened = []; facts = ((Rel relation.Le (Number (pos 0)) (Var 1 sort.Int)) ∷ (Rel relation.Le (Var 1 sort.Int) (Number (pos 20))) ∷ []); locals = ((name_p00, (Var 0 sort.Val)) ∷ []); items = ((Data (Number (pos 32)) (Var 0 sort.Val) (Of2 binary.Cons (Of unary.Vi (Var 1 sort.Int)) Nil)) ∷ []) }); post = (record { opened = []; facts = ([]); locals = []; items = ((Data (Number (pos 32)) (Var 0 sort.Val) (Of2 binary.Cons (Of unary.Vi (Var 1 sort.Int)) Nil)) ∷ []) }) }) ∷ (record { is_void = false; name = name_main; params = ([]); vars = []; pre = (record { opened = []; facts = ([]); locals = []; items = ([]) }); post = (record { opened = []; facts = ((Rel relation.Eq (Var 0 sort.Val) (Of unary.Vi (Number (pos 0)))) ∷ []); locals = []; items = ([]) }) }) ∷ []) }) (record { is_void = true; name = name_f; params = (name_p00 ∷ []); vars = ((name_v0, sort.Val) ∷ (name_o0, sort.Int) ∷ []); pre = (record { opened = []; facts = ((Rel relation.Le (Number (pos 0)) (Var 1 sort.Int)) ∷ (Rel relation.Le (Var 1 sort.Int) (Number (pos 20))) ∷ []); locals = ((name_p00, (Var 0 sort.Val)) ∷ []); items = ((Data (Number (pos 32)) (Var 0 sort.Val) (Of2 binary.Cons (Of unary.Vi (Var 1 sort.Int)) Nil)) ∷ []) }); post = (record { opened = []; facts = ([]); locals = []; items = ((Data (Number (pos 32)) (Var 0 sort.Val) (Of2 binary.Cons (Of unary.Vi (Var 1 sort.Int)) Nil)) ∷ []) }) }) (record { temps = (name_p00 ∷ name_s ∷ name_t ∷ name_i ∷ name_x1 ∷ name_d0 ∷ name_p1 ∷ name_q1 ∷ []); body = (c.Then (c.Set 1 (c.Const 0)) (c.Then (c.Set 2 (c.Const 0)) (c.Then (c.Set 5 (c.Binary two.Add kind.Signed (c.Binary two.Eq kind.Signed (c.Const 2) (c.Const 1)) (c.Const 2))) (c.Then (c.Set 5 (c.Const 3)) (c.Then (c.Set 1 (c.Const 1)) c.End))))) }) (s.Then 1 (s.Set ([]) ([])) s.NoBlock (s.Then 2 (s.Set ([]) ([])) s.NoBlock (s.Then 3 (s.Set ([]) ([])) s.NoBlock (s.Then 4 (s.Set ([]) ([])) s.NoBlock (s.Then 5 (s.Fall ([]) ([])) s.NoBlock s.End))))) ≡ (RefusedAt 5 10 1)
unfolding computing
random_340 = refl

random_341 : body_verdict (record { predicates = ([]); specs = ((record { is_void = true; name = name_f; params = (name_p00 ∷ []); vars = ((name_v0, sort.Val) ∷ (name_o0, sort.Int) ∷ []); pre = (record { opened = []; facts = ((Rel relation.Le (Number (pos 0)) (Var 1 sort.Int)) ∷ (Rel relation.Le (Var 1 sort.Int) (Number (pos 20))) ∷ []); locals = ((name_p00, (Var 0 sort.Val)) ∷ []); items = ((Data (Number (pos 32)) (Var 0 sort.Val) (Of2 binary.Cons (Of unary.Vi (Var 1 sort.Int)) Nil)) ∷ []) }); post = (record { opened = []; facts = ([]); locals = []; items = ((Data (Number (pos 32)) (Var 0 sort.Val) (Of2 binary.Cons (Of unary.Vi (Var 1 sort.Int)) Nil)) ∷ []) }) }) ∷ (record { is_void = false; name = name_main; params = ([]); vars = []; pre = (record { opened = []; facts = ([]); locals = []; items = ([]) }); post = (record { opened = []; facts = ((Rel relation.Eq (Var 0 sort.Val) (Of unary.Vi (Number (pos 0)))) ∷ []); locals = []; items = ([]) }) }) ∷ []) }) (record { is_void = true; name = name_f; params = (name_p00 ∷ []); vars = ((name_v0, sort.Val) ∷ (name_o0, sort.Int) ∷ []); pre = (record { opened = []; facts = ((Rel relation.Le (Number (pos 0)) (Var 1 sort.Int)) ∷ (Rel relation.Le (Var 1 sort.Int) (Number (pos 20))) ∷ []); locals = ((name_p00, (Var 0 sort.Val)) ∷ []); items = ((Data (Number (pos 32)) (Var 0 sort.Val) (Of2 binary.Cons (Of unary.Vi (Var 1 sort.Int)) Nil)) ∷ []) }); post = (record { opened = []; facts = ([]); locals = []; items = ((Data (Number (pos 32)) (Var 0 sort.Val) (Of2 binary.Cons (Of unary.Vi (Var 1 sort.Int)) Nil)) ∷ []) }) }) (record { temps = (name_p00 ∷ name_s ∷ name_t ∷ name_i ∷ name_x1 ∷ name_d0 ∷ name_p1 ∷ name_q1 ∷ []); body = (c.Then (c.Set 1 (c.Const 0)) (c.Then (c.Set 2 (c.Const 0)) (c.Then (c.Set 5 (c.Binary two.Add kind.Signed (c.Binary two.Eq kind.Signed (c.Const 2) (c.Const 1)) (c.Const 2))) (c.Then (c.Set 5 (c.Const 3)) (c.Then (c.Set 1 (c.Const 1)) c.End))))) }) (s.Then 1 (s.Set ([]) ([])) s.NoBlock (s.Then 2 (s.Call ([]) ([]) ([]) ([])) s.NoBlock (s.Then 3 (s.Set ([]) ([])) s.NoBlock (s.Then 4 (s.Set ([]) ([])) s.NoBlock (s.Then 5 (s.Set ([]) ([])) s.NoBlock (s.Then 6 (s.Set ([]) ([])) s.NoBlock (s.Then 7 (s.Fall ([]) ([])) s.NoBlock s.End))))))) ≡ (RefusedAt 2 13 1)
unfolding computing
random_341 = refl

random_342 : body_verdict (record { predicates = ([]); specs = ((record { is_void = true; name = name_f; params = (name_p00 ∷ []); vars = ((name_v0, sort.Val) ∷ (name_o0, sort.Int) ∷ []); pre = (record { opened = []; facts = ((Rel relation.Le (Number (pos 0)) (Var 1 sort.Int)) ∷ (Rel relation.Le (Var 1 sort.Int) (Number (pos 20))) ∷ []); locals = ((name_p00, (Var 0 sort.Val)) ∷ []); items = ((Data (Number (pos 32)) (Var 0 sort.Val) (Of2 binary.Cons (Of unary.Vi (Var 1 sort.Int)) Nil)) ∷ []) }); post = (record { opened = []; facts = ([]); locals = []; items = ((Data (Number (pos 32)) (Var 0 sort.Val) (Of2 binary.Cons (Of unary.Vi (Var 1 sort.Int)) Nil)) ∷ []) }) }) ∷ (record { is_void = false; name = name_main; params = ([]); vars = []; pre = (record { opened = []; facts = ([]); locals = []; items = ([]) }); post = (record { opened = []; facts = ((Rel relation.Eq (Var 0 sort.Val) (Of unary.Vi (Number (pos 0)))) ∷ []); locals = []; items = ([]) }) }) ∷ []) }) (record { is_void = true; name = name_f; params = (name_p00 ∷ []); vars = ((name_v0, sort.Val) ∷ (name_o0, sort.Int) ∷ []); pre = (record { opened = []; facts = ((Rel relation.Le (Number (pos 0)) (Var 1 sort.Int)) ∷ (Rel relation.Le (Var 1 sort.Int) (Number (pos 20))) ∷ []); locals = ((name_p00, (Var 0 sort.Val)) ∷ []); items = ((Data (Number (pos 32)) (Var 0 sort.Val) (Of2 binary.Cons (Of unary.Vi (Var 1 sort.Int)) Nil)) ∷ []) }); post = (record { opened = []; facts = ([]); locals = []; items = ((Data (Number (pos 32)) (Var 0 sort.Val) (Of2 binary.Cons (Of unary.Vi (Var 1 sort.Int)) Nil)) ∷ []) }) }) (record { temps = (name_p00 ∷ name_s ∷ name_t ∷ name_i ∷ name_x1 ∷ name_d0 ∷ name_p1 ∷ name_q1 ∷ []); body = (c.Then (c.Set 1 (c.Const 0)) (c.Then (c.Set 5 (c.Binary two.Add kind.Signed (c.Binary two.Eq kind.Signed (c.Const 2) (c.Const 1)) (c.Const 2))) (c.Then (c.Set 5 (c.Const 3)) (c.Then (c.Set 1 (c.Const 1)) c.End)))) }) (s.Then 1 (s.Set ([]) ([])) s.NoBlock (s.Then 2 (s.Set ([]) ([])) s.NoBlock (s.Then 3 (s.Set ([]) ([])) s.NoBlock (s.Then 4 (s.Set ([]) ([])) s.NoBlock (s.Then 5 (s.Set ([]) ([])) s.NoBlock (s.Then 6 (s.Fall ([]) ([])) s.NoBlock s.End)))))) ≡ (RefusedAt 5 2 1)
unfolding computing
random_342 = refl

random_343 : body_verdict (record { predicates = ([]); specs = ((record { is_void = true; name = name_f; params = (name_p00 ∷ []); vars = ((name_v0, sort.Val) ∷ (name_o0, sort.Int) ∷ []); pre = (record { opened = []; facts = ((Rel relation.Le (Number (pos 0)) (Var 1 sort.Int)) ∷ (Rel relation.Le (Var 1 sort.Int) (Number (pos 20))) ∷ []); locals = ((name_p00, (Var 0 sort.Val)) ∷ []); items = ((Data (Number (pos 32)) (Var 0 sort.Val) (Of2 binary.Cons (Of unary.Vi (Var 1 sort.Int)) Nil)) ∷ []) }); post = (record { opened = []; facts = ([]); locals = []; items = ((Data (Number (pos 32)) (Var 0 sort.Val) (Of2 binary.Cons (Of unary.Vi (Var 1 sort.Int)) Nil)) ∷ []) }) }) ∷ (record { is_void = false; name = name_main; params = ([]); vars = []; pre = (record { opened = []; facts = ([]); locals = []; items = ([]) }); post = (record { opened = []; facts = ((Rel relation.Eq (Var 0 sort.Val) (Of unary.Vi (Number (pos 0)))) ∷ []); locals = []; items = ([]) }) }) ∷ []) }) (record { is_void = true; name = name_f; params = (name_p00 ∷ []); vars = ((name_v0, sort.Val) ∷ (name_o0, sort.Int) ∷ []); pre = (record { opened = []; facts = ((Rel relation.Le (Number (pos 0)) (Var 1 sort.Int)) ∷ (Rel relation.Le (Var 1 sort.Int) (Number (pos 20))) ∷ []); locals = ((name_p00, (Var 0 sort.Val)) ∷ []); items = ((Data (Number (pos 32)) (Var 0 sort.Val) (Of2 binary.Cons (Of unary.Vi (Var 1 sort.Int)) Nil)) ∷ []) }); post = (record { opened = []; facts = ([]); locals = []; items = ((Data (Number (pos 32)) (Var 0 sort.Val) (Of2 binary.Cons (Of unary.Vi (Var 1 sort.Int)) Nil)) ∷ []) }) }) (record { temps = (name_p00 ∷ name_s ∷ name_t ∷ name_i ∷ name_x1 ∷ name_d0 ∷ name_p1 ∷ name_q1 ∷ []); body = (c.Then (c.Set 1 (c.Const 0)) (c.Then (c.Set 2 (c.Const 0)) (c.Then (c.Set 5 (c.Binary two.Add kind.Signed (c.Binary two.Eq kind.Signed (c.Const 2) (c.Const 1)) (c.Const 2))) (c.Then (c.Set 5 (c.Const 3)) (c.Then (c.Set 1 (c.Const 1)) c.End))))) }) (s.Then 1 (s.Set ([]) ([])) s.NoBlock (s.Then 2 (s.Set ([]) ([])) s.NoBlock (s.Then 3 (s.Set ([]) ([])) s.NoBlock (s.Then 4 (s.Set ([]) ([])) s.NoBlock (s.Then 5 (s.Set ([]) ([])) s.NoBlock s.End))))) ≡ (RefusedAt 6 0 10)
unfolding computing
random_343 = refl

random_344 : body_verdict (record { predicates = ((record { name = name_iv; args = ([]); cases = ((record { opened = (sort.Int ∷ []); facts = ((Rel relation.Le (Number (pos 0)) (Var 0 sort.Int)) ∷ (Rel relation.Le (Var 0 sort.Int) (Number (pos 50))) ∷ []); locals = []; items = ((Data (Number (pos 64)) (Global name_x) (Of2 binary.Cons (Of unary.Vi (Var 0 sort.Int)) Nil)) ∷ []) }) ∷ []) }) ∷ []); specs = ((record { is_void = false; name = name_main; params = ([]); vars = []; pre = (record { opened = []; facts = ([]); locals = []; items = ((Data (Number (pos 64)) (Global name_x) (Of2 binary.Cons (Of unary.Vi (Number (pos 3))) Nil)) ∷ (Data (Number (pos 64)) (Global name_l) (Of2 binary.Cons (Of unary.Vi (Number (pos 0))) Nil)) ∷ []) }); post = (record { opened = (sort.List ∷ []); facts = ((IsInt (Var 0 sort.Val)) ∷ []); locals = []; items = ((Data (Number (pos 64)) (Global name_x) (Var 1 sort.List)) ∷ (Data (Number (pos 64)) (Global name_l) (Of2 binary.Cons Undef Nil)) ∷ []) }) }) ∷ []) }) (record { is_void = false; name = name_main; params = ([]); vars = []; pre = (record { opened = []; facts = ([]); locals = []; items = ((Data (Number (pos 64)) (Global name_x) (Of2 binary.Cons (Of unary.Vi (Number (pos 3))) Nil)) ∷ (Data (Number (pos 64)) (Global name_l) (Of2 binary.Cons (Of unary.Vi (Number (pos 0))) Nil)) ∷ []) }); post = (record { opened = (sort.List ∷ []); facts = ((IsInt (Var 0 sort.Val)) ∷ []); locals = []; items = ((Data (Number (pos 64)) (Global name_x) (Var 1 sort.List)) ∷ (Data (Number (pos 64)) (Global name_l) (Of2 binary.Cons Undef Nil)) ∷ []) }) }) (record { temps = (name_s ∷ name_t ∷ name_i ∷ name_x1 ∷ name_d0 ∷ name_p1 ∷ name_q1 ∷ []); body = (c.Then (c.Set 0 (c.Const 1)) (c.Then (c.OnLock lock.Make (c.Address (root.Global name_l 1) c.Here)) (c.Then (c.OnLock lock.Release (c.Address (root.Global name_l 1) c.Here)) (c.Then (c.Set 4 (c.Const 3)) (c.Then (c.OnLock lock.Acquire (c.Address (root.Global name_l 1) c.Here)) (c.Then (c.Load 1 (root.Global name_x 1) c.Here) (c.Then (c.Store (root.Global name_x 1) c.Here (c.Temp 1)) (c.Then (c.OnLock lock.Release (c.Address (root.Global name_l 1) c.Here)) (c.Then (c.OnLock lock.Acquire (c.Address (root.Global name_l 1) c.Here)) (c.Then (c.OnLock lock.Free (c.Address (root.Global name_l 1) c.Here)) (c.Then (c.Return (Some (c.Temp 1))) c.End))))))))))) }) (s.Then 1 (s.Set ([]) ([])) s.NoBlock (s.Then 2 (s.MakeLock 1 (record { name = name_iv; args = ([]) }) ([]) ([])) s.NoBlock (s.Then 3 (s.Fold name_iv 0 ([]) ((Number (pos 3)) ∷ []) ([])) s.NoBlock (s.Then 4 (s.Release 1 2 ([])) s.NoBlock (s.Then 5 (s.Set ([]) ([])) s.NoBlock (s.Then 6 (s.Acquire 0 ([])) s.NoBlock (s.Then 7 (s.Unfold 2 ((name_k1 ∷ []) ∷ [])) (s.WithBlock (s.Then 8 (s.Load 2 ([]) ([])) s.NoBlock (s.Then 9 (s.Store 2 ([]) ([])) s.NoBlock (s.Then 10 (s.Fold name_iv 0 ([]) ((Named name_k1) ∷ []) ([])) s.NoBlock (s.Then 11 (s.Release 1 2 ([])) s.NoBlock (s.Then 12 (s.Acquire 0 ([])) s.NoBlock (s.Then 13 (s.Unfold 2 ((name_k2 ∷ []) ∷ [])) (s.WithBlock (s.Then 14 (s.FreeLock 0 3 ([]) ([])) s.NoBlock (s.Then 15 (s.Return ((Of2 binary.Cons (Of unary.Vi (Named name_k2)) Nil) ∷ []) ([]) ([])) s.NoBlock s.End)) s.NoBlock) s.End)))))) s.NoBlock) s.End))))))) ≡ (RefusedAt 14 19 1)
unfolding computing
random_344 = refl

random_345 : body_verdict (record { predicates = ((record { name = name_iv; args = ([]); cases = ((record { opened = (sort.Int ∷ []); facts = ((Rel relation.Le (Number (pos 0)) (Var 0 sort.Int)) ∷ (Rel relation.Le (Var 0 sort.Int) (Number (pos 50))) ∷ []); locals = []; items = ((Data (Number (pos 64)) (Global name_x) (Of2 binary.Cons (Of unary.Vi (Var 0 sort.Int)) Nil)) ∷ []) }) ∷ []) }) ∷ []); specs = ((record { is_void = false; name = name_main; params = ([]); vars = []; pre = (record { opened = []; facts = ([]); locals = []; items = ((Data (Number (pos 64)) (Global name_x) (Of2 binary.Cons (Of unary.Vi (Number (pos 3))) Nil)) ∷ (Data (Number (pos 64)) (Global name_l) (Of2 binary.Cons (Of unary.Vi (Number (pos 0))) Nil)) ∷ []) }); post = (record { opened = (sort.List ∷ []); facts = ((IsInt (Var 0 sort.Val)) ∷ []); locals = []; items = ((Data (Number (pos 64)) (Global name_x) (Var 1 sort.List)) ∷ (Data (Number (pos 64)) (Global name_l) (Of2 binary.Cons Undef Nil)) ∷ []) }) }) ∷ []) }) (record { is_void = false; name = name_main; params = ([]); vars = []; pre = (record { opened = []; facts = ([]); locals = []; items = ((Data (Number (pos 64)) (Global name_x) (Of2 binary.Cons (Of unary.Vi (Number (pos 3))) Nil)) ∷ (Data (Number (pos 64)) (Global name_l) (Of2 binary.Cons (Of unary.Vi (Number (pos 0))) Nil)) ∷ []) }); post = (record { opened = (sort.List ∷ []); facts = ((IsInt (Var 0 sort.Val)) ∷ []); locals = []; items = ((Data (Number (pos 64)) (Global name_x) (Var 1 sort.List)) ∷ (Data (Number (pos 64)) (Global name_l) (Of2 binary.Cons Undef Nil)) ∷ []) }) }) (record { temps = (name_s ∷ name_t ∷ name_i ∷ name_x1 ∷ name_d0 ∷ name_p1 ∷ name_q1 ∷ []); body = (c.Then (c.Set 0 (c.Const 1)) (c.Then (c.OnLock lock.Make (c.Address (root.Global name_l 1) c.Here)) (c.Then (c.OnLock lock.Release (c.Address (root.Global name_l 1) c.Here)) (c.Then (c.Set 4 (c.Const 3)) (c.Then (c.OnLock lock.Acquire (c.Address (root.Global name_l 1) c.Here)) (c.Then (c.Load 1 (root.Global name_x 1) c.Here) (c.Then (c.Store (root.Global name_x 1) c.Here (c.Temp 1)) (c.Then (c.OnLock lock.Release (c.Address (root.Global name_l 1) c.Here)) (c.Then (c.OnLock lock.Acquire (c.Address (root.Global name_l 1) c.Here)) (c.Then (c.OnLock lock.Free (c.Address (root.Global name_l 1) c.Here)) (c.Then (c.Return (Some (c.Temp 1))) c.End))))))))))) }) (s.Then 1 (s.Set ([]) ([])) s.NoBlock (s.Then 2 (s.MakeLock 1 (record { name = name_iv; args = ([]) }) ([]) ([])) s.NoBlock (s.Then 3 (s.Fold name_iv 0 ([]) ((Number (pos 3)) ∷ []) ([])) s.NoBlock (s.Then 4 (s.Release 1 2 ([])) s.NoBlock (s.Then 5 (s.Set ([]) ([])) s.NoBlock (s.Then 6 (s.Acquire 0 ([])) s.NoBlock (s.Then 7 (s.Unfold 2 ((name_k1 ∷ []) ∷ [])) (s.WithBlock (s.Then 8 (s.Load 2 ([]) ([])) s.NoBlock (s.Then 9 (s.Store 2 ([]) ([])) s.NoBlock (s.Then 10 (s.Fold name_iv 0 ([]) ((Named name_k1) ∷ []) ([])) s.NoBlock (s.Then 11 (s.Release 1 2 ([])) s.NoBlock (s.Then 12 (s.Acquire 0 ([])) s.NoBlock (s.Then 13 (s.Unfold 2 ((name_k2 ∷ []) ∷ [])) (s.WithBlock (s.Then 14 (s.FreeLock 0 1 ([]) ([])) s.NoBlock (s.Then 15 (s.FreeLock 0 1 ([]) ([])) s.NoBlock (s.Then 16 (s.Return ((Of2 binary.Cons (Of unary.Vi (Named name_k2)) Nil) ∷ []) ([]) ([])) s.NoBlock s.End))) s.NoBlock) s.End)))))) s.NoBlock) s.End))))))) ≡ (RefusedAt 15 19 1)
unfolding computing
random_345 = refl

random_346 : body_verdict (record { predicates = ((record { name = name_iv; args = ([]); cases = ((record { opened = (sort.Int ∷ []); facts = ((Rel relation.Le (Number (pos 0)) (Var 0 sort.Int)) ∷ (Rel relation.Le (Var 0 sort.Int) (Number (pos 50))) ∷ []); locals = []; items = ((Data (Number (pos 64)) (Global name_x) (Of2 binary.Cons (Of unary.Vi (Var 0 sort.Int)) Nil)) ∷ []) }) ∷ []) }) ∷ []); specs = ((record { is_void = false; name = name_main; params = ([]); vars = []; pre = (record { opened = []; facts = ([]); locals = []; items = ((Data (Number (pos 4)) (Global name_x) (Of2 binary.Cons (Of unary.Vi (Number (pos 3))) Nil)) ∷ (Data (Number (pos 64)) (Global name_l) (Of2 binary.Cons (Of unary.Vi (Number (pos 0))) Nil)) ∷ []) }); post = (record { opened = (sort.List ∷ []); facts = ((IsInt (Var 0 sort.Val)) ∷ []); locals = []; items = ((Data (Number (pos 64)) (Global name_x) (Var 1 sort.List)) ∷ (Data (Number (pos 64)) (Global name_l) (Of2 binary.Cons Undef Nil)) ∷ []) }) }) ∷ []) }) (record { is_void = false; name = name_main; params = ([]); vars = []; pre = (record { opened = []; facts = ([]); locals = []; items = ((Data (Number (pos 4)) (Global name_x) (Of2 binary.Cons (Of unary.Vi (Number (pos 3))) Nil)) ∷ (Data (Number (pos 64)) (Global name_l) (Of2 binary.Cons (Of unary.Vi (Number (pos 0))) Nil)) ∷ []) }); post = (record { opened = (sort.List ∷ []); facts = ((IsInt (Var 0 sort.Val)) ∷ []); locals = []; items = ((Data (Number (pos 64)) (Global name_x) (Var 1 sort.List)) ∷ (Data (Number (pos 64)) (Global name_l) (Of2 binary.Cons Undef Nil)) ∷ []) }) }) (record { temps = (name_s ∷ name_t ∷ name_i ∷ name_x1 ∷ name_d0 ∷ name_p1 ∷ name_q1 ∷ []); body = (c.Then (c.Set 0 (c.Const 1)) (c.Then (c.OnLock lock.Make (c.Address (root.Global name_l 1) c.Here)) (c.Then (c.OnLock lock.Release (c.Address (root.Global name_l 1) c.Here)) (c.Then (c.Set 4 (c.Const 3)) (c.Then (c.OnLock lock.Acquire (c.Address (root.Global name_l 1) c.Here)) (c.Then (c.Load 1 (root.Global name_x 1) c.Here) (c.Then (c.Store (root.Global name_x 1) c.Here (c.Temp 1)) (c.Then (c.OnLock lock.Release (c.Address (root.Global name_l 1) c.Here)) (c.Then (c.OnLock lock.Acquire (c.Address (root.Global name_l 1) c.Here)) (c.Then (c.OnLock lock.Free (c.Address (root.Global name_l 1) c.Here)) (c.Then (c.Return (Some (c.Temp 1))) c.End))))))))))) }) (s.Then 1 (s.Set ([]) ([])) s.NoBlock (s.Then 2 (s.MakeLock 1 (record { name = name_iv; args = ([]) }) ([]) ([])) s.NoBlock (s.Then 3 (s.Fold name_iv 0 ([]) ((Number (pos 3)) ∷ []) ([])) s.NoBlock (s.Then 4 (s.Release 1 2 ([])) s.NoBlock (s.Then 5 (s.Set ([]) ([])) s.NoBlock (s.Then 6 (s.Acquire 0 ([])) s.NoBlock (s.Then 7 (s.Unfold 2 ((name_k1 ∷ []) ∷ [])) (s.WithBlock (s.Then 8 (s.Load 2 ([]) ([])) s.NoBlock (s.Then 9 (s.Store 2 ([]) ([])) s.NoBlock (s.Then 10 (s.Fold name_iv 0 ([]) ((Named name_k1) ∷ []) ([])) s.NoBlock (s.Then 11 (s.Release 1 2 ([])) s.NoBlock (s.Then 12 (s.Acquire 0 ([])) s.NoBlock (s.Then 13 (s.Unfold 2 ((name_k2 ∷ []) ∷ [])) (s.WithBlock (s.Then 14 (s.FreeLock 0 1 ([]) ([])) s.NoBlock (s.Then 15 (s.Return ((Of2 binary.Cons (Of unary.Vi (Named name_k2)) Nil) ∷ []) ([]) ([])) s.NoBlock s.End)) s.NoBlock) s.End)))))) s.NoBlock) s.End))))))) ≡ (RefusedAt 3 21 5)
unfolding computing
random_346 = refl

random_347 : body_verdict (record { predicates = ((record { name = name_iv; args = ([]); cases = ((record { opened = (sort.Int ∷ []); facts = ((Rel relation.Le (Number (pos 0)) (Var 0 sort.Int)) ∷ (Rel relation.Le (Var 0 sort.Int) (Number (pos 50))) ∷ []); locals = []; items = ((Data (Number (pos 64)) (Global name_x) (Of2 binary.Cons (Of unary.Vi (Var 0 sort.Int)) Nil)) ∷ []) }) ∷ []) }) ∷ []); specs = ((record { is_void = false; name = name_main; params = ([]); vars = []; pre = (record { opened = []; facts = ([]); locals = []; items = ((Data (Number (pos 64)) (Global name_x) (Of2 binary.Cons (Of unary.Vi (Number (pos 3))) Nil)) ∷ (Data (Number (pos 64)) (Global name_l) (Of2 binary.Cons (Of unary.Vi (Number (pos 0))) Nil)) ∷ []) }); post = (record { opened = (sort.List ∷ []); facts = ((IsInt (Var 0 sort.Val)) ∷ []); locals = []; items = ((Data (Number (pos 64)) (Global name_x) (Var 1 sort.List)) ∷ (Data (Number (pos 64)) (Global name_l) (Of2 binary.Cons Undef Nil)) ∷ []) }) }) ∷ []) }) (record { is_void = false; name = name_main; params = ([]); vars = []; pre = (record { opened = []; facts = ([]); locals = []; items = ((Data (Number (pos 64)) (Global name_x) (Of2 binary.Cons (Of unary.Vi (Number (pos 3))) Nil)) ∷ (Data (Number (pos 64)) (Global name_l) (Of2 binary.Cons (Of unary.Vi (Number (pos 0))) Nil)) ∷ []) }); post = (record { opened = (sort.List ∷ []); facts = ((IsInt (Var 0 sort.Val)) ∷ []); locals = []; items = ((Data (Number (pos 64)) (Global name_x) (Var 1 sort.List)) ∷ (Data (Number (pos 64)) (Global name_l) (Of2 binary.Cons Undef Nil)) ∷ []) }) }) (record { temps = (name_s ∷ name_t ∷ name_i ∷ name_x1 ∷ name_d0 ∷ name_p1 ∷ name_q1 ∷ []); body = (c.Then (c.Set 0 (c.Const 1)) (c.Then (c.OnLock lock.Make (c.Address (root.Global name_l 1) c.Here)) (c.Then (c.OnLock lock.Release (c.Address (root.Global name_l 1) c.Here)) (c.Then (c.Set 4 (c.Const 3)) (c.Then (c.OnLock lock.Acquire (c.Address (root.Global name_l 1) c.Here)) (c.Then (c.Load 1 (root.Global name_x 1) c.Here) (c.Then (c.Store (root.Global name_x 1) c.Here (c.Temp 1)) (c.Then (c.OnLock lock.Release (c.Address (root.Global name_l 1) c.Here)) (c.Then (c.OnLock lock.Acquire (c.Address (root.Global name_l 1) c.Here)) (c.Then (c.OnLock lock.Free (c.Address (root.Global name_l 1) c.Here)) (c.Then (c.Return (Some (c.Temp 1))) c.End))))))))))) }) (s.Then 1 (s.Set ([]) ([])) s.NoBlock (s.Then 2 (s.MakeLock 1 (record { name = name_iv; args = ([]) }) ([]) ([])) s.NoBlock (s.Then 3 (s.Fold name_iv 0 ([]) ((Number (pos 3)) ∷ []) ([])) s.NoBlock (s.Then 4 (s.Release 1 2 ([])) s.NoBlock (s.Then 5 (s.Set ([]) ([])) s.NoBlock (s.Then 6 (s.Acquire 0 ([])) s.NoBlock (s.Then 7 (s.Unfold 2 ((name_k1 ∷ []) ∷ [])) (s.WithBlock (s.Then 8 (s.Load 2 ([]) ([])) s.NoBlock (s.Then 9 (s.Store 2 ([]) ([])) s.NoBlock (s.Then 10 (s.Subst name_a0) s.NoBlock (s.Then 11 (s.Fold name_iv 0 ([]) ((Named name_k1) ∷ []) ([])) s.NoBlock (s.Then 12 (s.Release 1 2 ([])) s.NoBlock (s.Then 13 (s.Acquire 0 ([])) s.NoBlock (s.Then 14 (s.Unfold 2 ((name_k2 ∷ []) ∷ [])) (s.WithBlock (s.Then 15 (s.FreeLock 0 1 ([]) ([])) s.NoBlock (s.Then 16 (s.Return ((Of2 binary.Cons (Of unary.Vi (Named name_k2)) Nil) ∷ []) ([]) ([])) s.NoBlock s.End)) s.NoBlock) s.End))))))) s.NoBlock) s.End))))))) ≡ (RefusedAt 10 27 1)
unfolding computing
random_347 = refl

random_348 : body_verdict (record { predicates = ((record { name = name_iv; args = ([]); cases = ((record { opened = (sort.Int ∷ []); facts = ((Rel relation.Le (Number (pos 0)) (Var 0 sort.Int)) ∷ (Rel relation.Le (Var 0 sort.Int) (Number (pos 50))) ∷ []); locals = []; items = ((Data (Number (pos 64)) (Global name_x) (Of2 binary.Cons (Of unary.Vi (Var 0 sort.Int)) Nil)) ∷ []) }) ∷ []) }) ∷ []); specs = ((record { is_void = false; name = name_main; params = ([]); vars = []; pre = (record { opened = []; facts = ([]); locals = []; items = ((Data (Number (pos 64)) (Global name_x) (Of2 binary.Cons (Of unary.Vi (Number (pos 3))) Nil)) ∷ (Data (Number (pos 64)) (Global name_l) (Of2 binary.Cons (Of unary.Vi (Number (pos 0))) Nil)) ∷ []) }); post = (record { opened = (sort.List ∷ []); facts = ((IsInt (Var 0 sort.Val)) ∷ []); locals = []; items = ((Data (Number (pos 64)) (Global name_x) (Var 1 sort.List)) ∷ (Data (Number (pos 64)) (Global name_l) (Of2 binary.Cons Undef Nil)) ∷ []) }) }) ∷ []) }) (record { is_void = false; name = name_main; params = ([]); vars = []; pre = (record { opened = []; facts = ([]); locals = []; items = ((Data (Number (pos 64)) (Global name_x) (Of2 binary.Cons (Of unary.Vi (Number (pos 3))) Nil)) ∷ (Data (Number (pos 64)) (Global name_l) (Of2 binary.Cons (Of unary.Vi (Number (pos 0))) Nil)) ∷ []) }); post = (record { opened = (sort.List ∷ []); facts = ((IsInt (Var 0 sort.Val)) ∷ []); locals = []; items = ((Data (Number (pos 64)) (Global name_x) (Var 1 sort.List)) ∷ (Data (Number (pos 64)) (Global name_l) (Of2 binary.Cons Undef Nil)) ∷ []) }) }) (record { temps = (name_s ∷ name_t ∷ name_i ∷ name_x1 ∷ name_d0 ∷ name_p1 ∷ name_q1 ∷ []); body = (c.Then (c.Set 0 (c.Const 1)) (c.Then (c.OnLock lock.Make (c.Address (root.Global name_l 1) c.Here)) (c.Then (c.OnLock lock.Release (c.Address (root.Global name_l 1) c.Here)) (c.Then (c.OnLock lock.Acquire (c.Address (root.Global name_l 1) c.Here)) (c.Then (c.Load 1 (root.Global name_x 1) c.Here) (c.Then (c.Store (root.Global name_x 1) c.Here (c.Temp 1)) (c.Then (c.OnLock lock.Release (c.Address (root.Global name_l 1) c.Here)) (c.Then (c.OnLock lock.Acquire (c.Address (root.Global name_l 1) c.Here)) (c.Then (c.OnLock lock.Free (c.Address (root.Global name_l 1) c.Here)) (c.Then (c.Return (Some (c.Temp 1))) c.End)))))))))) }) (s.Then 1 (s.Set ([]) ([])) s.NoBlock (s.Then 2 (s.MakeLock 1 (record { name = name_iv; args = ([]) }) ([]) ([])) s.NoBlock (s.Then 3 (s.Fold name_iv 0 ([]) ((Number (pos 3)) ∷ []) ([])) s.NoBlock (s.Then 4 (s.Release 1 2 ([])) s.NoBlock (s.Then 5 (s.Set ([]) ([])) s.NoBlock (s.Then 6 (s.Acquire 0 ([])) s.NoBlock (s.Then 7 (s.Unfold 2 ((name_k1 ∷ []) ∷ [])) (s.WithBlock (s.Then 8 (s.Load 2 ([]) ([])) s.NoBlock (s.Then 9 (s.Store 2 ([]) ([])) s.NoBlock (s.Then 10 (s.Fold name_iv 0 ([]) ((Named name_k1) ∷ []) ([])) s.NoBlock (s.Then 11 (s.Release 1 2 ([])) s.NoBlock (s.Then 12 (s.Acquire 0 ([])) s.NoBlock (s.Then 13 (s.Unfold 2 ((name_k2 ∷ []) ∷ [])) (s.WithBlock (s.Then 14 (s.FreeLock 0 1 ([]) ([])) s.NoBlock (s.Then 15 (s.Return ((Of2 binary.Cons (Of unary.Vi (Named name_k2)) Nil) ∷ []) ([]) ([])) s.NoBlock s.End)) s.NoBlock) s.End)))))) s.NoBlock) s.End))))))) ≡ (RefusedAt 5 2 1)
unfolding computing
random_348 = refl

random_349 : body_verdict (record { predicates = ((record { name = name_iv; args = ([]); cases = ((record { opened = (sort.Int ∷ []); facts = ((Rel relation.Le (Number (pos 0)) (Var 0 sort.Int)) ∷ (Rel relation.Le (Var 0 sort.Int) (Number (pos 50))) ∷ []); locals = []; items = ((Data (Number (pos 64)) (Global name_x) (Of2 binary.Cons (Of unary.Vi (Var 0 sort.Int)) Nil)) ∷ []) }) ∷ []) }) ∷ []); specs = ((record { is_void = false; name = name_main; params = ([]); vars = []; pre = (record { opened = []; facts = ([]); locals = []; items = ((Data (Number (pos 64)) (Global name_x) (Of2 binary.Cons (Of unary.Vi (Number (pos 3))) Nil)) ∷ (Data (Number (pos 64)) (Global name_l) (Of2 binary.Cons (Of unary.Vi (Number (pos 0))) Nil)) ∷ []) }); post = (record { opened = (sort.List ∷ []); facts = ((IsInt (Var 0 sort.Val)) ∷ []); locals = []; items = ((Data (Number (pos 64)) (Global name_x) (Var 1 sort.List)) ∷ (Data (Number (pos 64)) (Global name_l) (Of2 binary.Cons Undef Nil)) ∷ []) }) }) ∷ []) }) (record { is_void = false; name = name_main; params = ([]); vars = []; pre = (record { opened = []; facts = ([]); locals = []; items = ((Data (Number (pos 64)) (Global name_x) (Of2 binary.Cons (Of unary.Vi (Number (pos 3))) Nil)) ∷ (Data (Number (pos 64)) (Global name_l) (Of2 binary.Cons (Of unary.Vi (Number (pos 0))) Nil)) ∷ []) }); post = (record { opened = (sort.List ∷ []); facts = ((IsInt (Var 0 sort.Val)) ∷ []); locals = []; items = ((Data (Number (pos 64)) (Global name_x) (Var 1 sort.List)) ∷ (Data (Number (pos 64)) (Global name_l) (Of2 binary.Cons Undef Nil)) ∷ []) }) }) (record { temps = (name_s ∷ name_t ∷ name_i ∷ name_x1 ∷ name_d0 ∷ name_p1 ∷ name_q1 ∷ []); body = (c.Then (c.Set 0 (c.Const 1)) (c.Then (c.OnLock lock.Make (c.Address (root.Global name_l 1) c.Here)) (c.Then (c.OnLock lock.Release (c.Address (root.Global name_l 1) c.Here)) (c.Then (c.Set 4 (c.Const 3)) (c.Then (c.OnLock lock.Acquire (c.Address (root.Global name_l 1) c.Here)) (c.Then (c.Load 1 (root.Global name_x 1) c.Here) (c.Then (c.Store (root.Global name_x 1) c.Here (c.Temp 1)) (c.Then (c.OnLock lock.Release (c.Address (root.Global name_l 1) c.Here)) (c.Then (c.OnLock lock.Acquire (c.Address (root.Global name_l 1) c.Here)) (c.Then (c.OnLock lock.Free (c.Address (root.Global name_l 1) c.Here)) (c.Then (c.Return (Some (c.Temp 1))) c.End))))))))))) }) (s.Then 1 (s.Set ([]) ([])) s.NoBlock (s.Then 2 (s.MakeLock 1 (record { name = name_iv; args = ([]) }) ([]) ([])) s.NoBlock (s.Then 3 (s.Fold name_iv 0 ([]) ((Number (pos 3)) ∷ []) ([])) s.NoBlock (s.Then 4 (s.Release 1 2 ([])) s.NoBlock (s.Then 5 (s.Set ([]) ([])) s.NoBlock (s.Then 6 (s.Acquire 0 ([])) s.NoBlock (s.Then 7 (s.Unfold 2 ((name_k1 ∷ []) ∷ [])) (s.WithBlock (s.Then 8 (s.Load 2 ([]) ([])) s.NoBlock (s.Then 9 (s.Store 2 ([]) ([])) s.NoBlock (s.Then 10 (s.Store 2 ([]) ([])) s.NoBlock (s.Then 11 (s.Fold name_iv 0 ([]) ((Named name_k1) ∷ []) ([])) s.NoBlock (s.Then 12 (s.Release 1 2 ([])) s.NoBlock (s.Then 13 (s.Acquire 0 ([])) s.NoBlock (s.Then 14 (s.Unfold 2 ((name_k2 ∷ []) ∷ [])) (s.WithBlock (s.Then 15 (s.FreeLock 0 1 ([]) ([])) s.NoBlock (s.Then 16 (s.Return ((Of2 binary.Cons (Of unary.Vi (Named name_k2)) Nil) ∷ []) ([]) ([])) s.NoBlock s.End)) s.NoBlock) s.End))))))) s.NoBlock) s.End))))))) ≡ (RefusedAt 10 4 1)
unfolding computing
random_349 = refl

random_350 : body_verdict (record { predicates = ((record { name = name_iv; args = ([]); cases = ((record { opened = (sort.Int ∷ []); facts = ((Rel relation.Le (Number (pos 0)) (Var 0 sort.Int)) ∷ (Rel relation.Le (Var 0 sort.Int) (Number (pos 50))) ∷ []); locals = []; items = ((Data (Number (pos 64)) (Global name_x) (Of2 binary.Cons (Of unary.Vi (Var 0 sort.Int)) Nil)) ∷ []) }) ∷ []) }) ∷ []); specs = ((record { is_void = false; name = name_main; params = ([]); vars = []; pre = (record { opened = []; facts = ([]); locals = []; items = ((Data (Number (pos 64)) (Global name_x) (Of2 binary.Cons (Of unary.Vi (Number (pos 3))) Nil)) ∷ (Data (Number (pos 64)) (Global name_l) (Of2 binary.Cons (Of unary.Vi (Number (pos 0))) Nil)) ∷ []) }); post = (record { opened = (sort.List ∷ []); facts = ((IsInt (Var 0 sort.Val)) ∷ []); locals = []; items = ((Data (Number (pos 64)) (Global name_x) (Var 1 sort.List)) ∷ (Data (Number (pos 64)) (Global name_l) (Of2 binary.Cons Undef Nil)) ∷ []) }) }) ∷ []) }) (record { is_void = false; name = name_main; params = ([]); vars = []; pre = (record { opened = []; facts = ([]); locals = []; items = ((Data (Number (pos 64)) (Global name_x) (Of2 binary.Cons (Of unary.Vi (Number (pos 3))) Nil)) ∷ (Data (Number (pos 64)) (Global name_l) (Of2 binary.Cons (Of unary.Vi (Number (pos 0))) Nil)) ∷ []) }); post = (record { opened = (sort.List ∷ []); facts = ((IsInt (Var 0 sort.Val)) ∷ []); locals = []; items = ((Data (Number (pos 64)) (Global name_x) (Var 1 sort.List)) ∷ (Data (Number (pos 64)) (Global name_l) (Of2 binary.Cons Undef Nil)) ∷ []) }) }) (record { temps = (name_s ∷ name_t ∷ name_i ∷ name_x1 ∷ name_d0 ∷ name_p1 ∷ name_q1 ∷ []); body = (c.Then (c.Set 0 (c.Const 1)) (c.Then (c.OnLock lock.Make (c.Address (root.Global name_l 1) c.Here)) (c.Then (c.OnLock lock.Release (c.Address (root.Global name_l 1) c.Here)) (c.Then (c.Set 4 (c.Const 3)) (c.Then (c.OnLock lock.Acquire (c.Address (root.Global name_l 1) c.Here)) (c.Then (c.Load 1 (root.Global name_x 1) c.Here) (c.Then (c.Store (root.Global name_x 1) c.Here (c.Temp 1)) (c.Then (c.OnLock lock.Release (c.Address (root.Global name_l 1) c.Here)) (c.Then (c.OnLock lock.Acquire (c.Address (root.Global name_l 1) c.Here)) (c.Then (c.OnLock lock.Free (c.Address (root.Global name_l 1) c.Here)) (c.Then (c.Return (Some (c.Temp 1))) c.End))))))))))) }) (s.Then 1 (s.Set ([]) ([])) s.NoBlock (s.Then 2 (s.MakeLock 1 (record { name = name_iv; args = ([]) }) ([]) ([])) s.NoBlock (s.Then 3 (s.Fold name_iv 0 ([]) ((Number (pos 3)) ∷ []) ([])) s.NoBlock (s.Then 4 (s.Release 1 2 ([])) s.NoBlock (s.Then 5 (s.Set ([]) ([])) s.NoBlock (s.Then 6 (s.Acquire 0 ([])) s.NoBlock (s.Then 7 (s.Unfold 2 ((name_k1 ∷ []) ∷ [])) (s.WithBlock (s.Then 8 (s.Load 2 ([]) ([])) s.NoBlock (s.Then 9 (s.MakeLock 0 (record { name = name_E; args = ([]) }) ([]) ([])) s.NoBlock (s.Then 10 (s.Fold name_iv 0 ([]) ((Named name_k1) ∷ []) ([])) s.NoBlock (s.Then 11 (s.Release 1 2 ([])) s.NoBlock (s.Then 12 (s.Acquire 0 ([])) s.NoBlock (s.Then 13 (s.Unfold 2 ((name_k2 ∷ []) ∷ [])) (s.WithBlock (s.Then 14 (s.FreeLock 0 1 ([]) ([])) s.NoBlock (s.Then 15 (s.Return ((Of2 binary.Cons (Of unary.Vi (Named name_k2)) Nil) ∷ []) ([]) ([])) s.NoBlock s.End)) s.NoBlock) s.End)))))) s.NoBlock) s.End))))))) ≡ (RefusedAt 9 16 1)
unfolding computing
random_350 = refl

random_351 : body_verdict (record { predicates = ((record { name = name_iv; args = ([]); cases = ((record { opened = (sort.Int ∷ []); facts = ((Rel relation.Le (Number (pos 0)) (Var 0 sort.Int)) ∷ (Rel relation.Le (Var 0 sort.Int) (Number (pos 50))) ∷ []); locals = []; items = ((Data (Number (pos 64)) (Global name_x) (Of2 binary.Cons (Of unary.Vi (Var 0 sort.Int)) Nil)) ∷ []) }) ∷ []) }) ∷ []); specs = ((record { is_void = false; name = name_main; params = ([]); vars = []; pre = (record { opened = []; facts = ([]); locals = []; items = ((Data (Number (pos 64)) (Global name_x) (Of2 binary.Cons (Of unary.Vi (Number (pos 3))) Nil)) ∷ (Data (Number (pos 64)) (Global name_l) (Of2 binary.Cons (Of unary.Vi (Number (pos 0))) Nil)) ∷ []) }); post = (record { opened = (sort.List ∷ []); facts = ((IsInt (Var 0 sort.Val)) ∷ []); locals = []; items = ((Data (Number (pos 64)) (Global name_x) (Var 1 sort.List)) ∷ (Data (Number (pos 64)) (Global name_l) (Of2 binary.Cons Undef Nil)) ∷ []) }) }) ∷ []) }) (record { is_void = false; name = name_main; params = ([]); vars = []; pre = (record { opened = []; facts = ([]); locals = []; items = ((Data (Number (pos 64)) (Global name_x) (Of2 binary.Cons (Of unary.Vi (Number (pos 3))) Nil)) ∷ (Data (Number (pos 64)) (Global name_l) (Of2 binary.Cons (Of unary.Vi (Number (pos 0))) Nil)) ∷ []) }); post = (record { opened = (sort.List ∷ []); facts = ((IsInt (Var 0 sort.Val)) ∷ []); locals = []; items = ((Data (Number (pos 64)) (Global name_x) (Var 1 sort.List)) ∷ (Data (Number (pos 64)) (Global name_l) (Of2 binary.Cons Undef Nil)) ∷ []) }) }) (record { temps = (name_s ∷ name_t ∷ name_i ∷ name_x1 ∷ name_d0 ∷ name_p1 ∷ name_q1 ∷ []); body = (c.Then (c.Set 0 (c.Const 1)) (c.Then (c.OnLock lock.Make (c.Address (root.Global name_l 1) c.Here)) (c.Then (c.OnLock lock.Release (c.Address (root.Global name_l 1) c.Here)) (c.Then (c.Set 4 (c.Const 3)) (c.Then (c.OnLock lock.Acquire (c.Address (root.Global name_l 1) c.Here)) (c.Then (c.Load 1 (root.Global name_x 1) c.Here) (c.Then (c.Store (root.Global name_x 1) c.Here (c.Temp 1)) (c.Then (c.OnLock lock.Release (c.Address (root.Global name_l 1) c.Here)) (c.Then (c.OnLock lock.Acquire (c.Address (root.Global name_l 1) c.Here)) (c.Then (c.OnLock lock.Free (c.Address (root.Global name_l 1) c.Here)) (c.Then (c.Return (Some (c.Temp 1))) c.End))))))))))) }) (s.Then 1 (s.Set ([]) ([])) s.NoBlock (s.Then 2 (s.MakeLock 1 (record { name = name_iv; args = ([]) }) ([]) ([])) s.NoBlock (s.Then 3 (s.Fold name_iv 0 ([]) ((Number (pos 3)) ∷ []) ([])) s.NoBlock (s.Then 4 (s.Release 1 2 ([])) s.NoBlock (s.Then 5 (s.Set ([]) ([])) s.NoBlock (s.Then 6 (s.Acquire 0 ([])) s.NoBlock (s.Then 7 (s.Unfold 2 ((name_k1 ∷ []) ∷ [])) (s.WithBlock (s.Then 8 (s.Load 2 ([]) ([])) s.NoBlock (s.Then 9 (s.Store 2 ([]) ([])) s.NoBlock (s.Then 10 (s.Fold name_iv 0 ([]) ((Named name_k1) ∷ []) ([])) s.NoBlock (s.Then 11 (s.Acquire 0 ([])) s.NoBlock (s.Then 12 (s.Unfold 2 ((name_k2 ∷ []) ∷ [])) (s.WithBlock (s.Then 13 (s.FreeLock 0 1 ([]) ([])) s.NoBlock (s.Then 14 (s.Return ((Of2 binary.Cons (Of unary.Vi (Named name_k2)) Nil) ∷ []) ([]) ([])) s.NoBlock s.End)) s.NoBlock) s.End))))) s.NoBlock) s.End))))))) ≡ (RefusedAt 11 17 1)
unfolding computing
random_351 = refl

random_352 : body_verdict (record { predicates = ([]); specs = ((record { is_void = true; name = name_nop; params = ([]); vars = []; pre = (record { opened = []; facts = ([]); locals = []; items = ([]) }); post = (record { opened = []; facts = ([]); locals = []; items = ([]) }) }) ∷ (record { is_void = false; name = name_f; params = (name_n0 ∷ []); vars = ((name_a0, sort.Int) ∷ []); pre = (record { opened = []; facts = ((Rel relation.Le (Number (pos 0)) (Var 0 sort.Int)) ∷ (Rel relation.Le (Var 0 sort.Int) (Number (pos 9))) ∷ []); locals = ((name_n0, (Of unary.Vi (Var 0 sort.Int))) ∷ []); items = ((Data (Number (pos 64)) (Global name_g) (Of2 binary.Cons (Of unary.Vi (Number (pos 3))) Nil)) ∷ (Data (Number (pos 64)) (Global name_x) (Of2 binary.Cons (Of unary.Vi (Number (pos 3))) Nil)) ∷ []) }); post = (record { opened = []; facts = ((Rel relation.Eq (Var 1 sort.Val) (Of unary.Vi (Number (pos 7)))) ∷ []); locals = []; items = ((Data (Number (pos 64)) (Global name_g) (Of2 binary.Cons (Of unary.Vi (Number (pos 3))) Nil)) ∷ (Data (Number (pos 64)) (Global name_x) (Of2 binary.Cons (Of unary.Vi (Number (pos 3))) Nil)) ∷ []) }) }) ∷ (record { is_void = false; name = name_main; params = ([]); vars = []; pre = (record { opened = []; facts = ([]); locals = []; items = ((Data (Number (pos 64)) (Global name_g) (Of2 binary.Cons (Of unary.Vi (Number (pos 3))) Nil)) ∷ (Data (Number (pos 64)) (Global name_x) (Of2 binary.Cons (Of unary.Vi (Number (pos 3))) Nil)) ∷ []) }); post = (record { opened = []; facts = ((Rel relation.Eq (Var 0 sort.Val) (Of unary.Vi (Number (pos 0)))) ∷ []); locals = []; items = ((Data (Number (pos 64)) (Global name_g) (Of2 binary.Cons (Of unary.Vi (Number (pos 3))) Nil)) ∷ (Data (Number (pos 64)) (Global name_x) (Of2 binary.Cons (Of unary.Vi (Number (pos 3))) Nil)) ∷ []) }) }) ∷ []) }) (record { is_void = false; name = name_f; params = (name_n0 ∷ []); vars = ((name_a0, sort.Int) ∷ []); pre = (record { opened = []; facts = ((Rel relation.Le (Number (pos 0)) (Var 0 sort.Int)) ∷ (Rel relation.Le (Var 0 sort.Int) (Number (pos 9))) ∷ []); locals = ((name_n0, (Of unary.Vi (Var 0 sort.Int))) ∷ []); items = ((Data (Number (pos 64)) (Global name_g) (Of2 binary.Cons (Of unary.Vi (Number (pos 3))) Nil)) ∷ (Data (Number (pos 64)) (Global name_x) (Of2 binary.Cons (Of unary.Vi (Number (pos 3))) Nil)) ∷ []) }); post = (record { opened = []; facts = ((Rel relation.Eq (Var 1 sort.Val) (Of unary.Vi (Number (pos 7)))) ∷ []); locals = []; items = ((Data (Number (pos 64)) (Global name_g) (Of2 binary.Cons (Of unary.Vi (Number (pos 3))) Nil)) ∷ (Data (Number (pos 64)) (Global name_x) (Of2 binary.Cons (Of unary.Vi (Number (pos 3))) Nil)) ∷ []) }) }) (record { temps = (name_n0 ∷ name_s ∷ name_t ∷ name_i ∷ name_x1 ∷ name_d0 ∷ name_p1 ∷ name_q1 ∷ []); body = (c.Then (c.Set 1 (c.Const 2)) (c.Then (c.Set 2 (c.Const 0)) (c.Then (c.Call None name_nop ([])) (c.Then (c.Store (root.Global name_x 1) c.Here (c.Const 3)) (c.Then (c.Return (Some (c.Const 7))) c.End))))) }) (s.Then 1 (s.Set ([]) ([])) s.NoBlock (s.Then 2 (s.Set ([]) ([])) s.NoBlock (s.Then 3 (s.Call ([]) ([]) ([]) ([])) s.NoBlock (s.Then 4 (s.Store 31 ([]) ([])) s.NoBlock (s.Then 5 (s.Return ([]) ([]) ([])) s.NoBlock s.End))))) ≡ (RefusedAt 4 4 1)
unfolding computing
random_352 = refl

random_353 : body_verdict (record { predicates = ([]); specs = ((record { is_void = true; name = name_nop; params = ([]); vars = []; pre = (record { opened = []; facts = ([]); locals = []; items = ([]) }); post = (record { opened = []; facts = ([]); locals = []; items = ([]) }) }) ∷ (record { is_void = false; name = name_f; params = (name_n0 ∷ []); vars = ((name_a0, sort.Int) ∷ []); pre = (record { opened = []; facts = ((Rel relation.Le (Number (pos 0)) (Var 0 sort.Int)) ∷ (Rel relation.Le (Var 0 sort.Int) (Number (pos 9))) ∷ []); locals = ((name_n0, (Of unary.Vi (Var 0 sort.Int))) ∷ []); items = ((Data (Number (pos 64)) (Global name_g) (Of2 binary.Cons (Of unary.Vi (Number (pos 3))) Nil)) ∷ (Data (Number (pos 64)) (Global name_x) (Of2 binary.Cons (Of unary.Vi (Number (pos 3))) Nil)) ∷ []) }); post = (record { opened = []; facts = ((Rel relation.Eq (Var 1 sort.Val) (Of unary.Vi (Number (pos 7)))) ∷ []); locals = []; items = ((Data (Number (pos 64)) (Global name_g) (Of2 binary.Cons (Of unary.Vi (Number (pos 3))) Nil)) ∷ (Data (Number (pos 64)) (Global name_x) (Of2 binary.Cons (Of unary.Vi (Number (pos 3))) Nil)) ∷ []) }) }) ∷ (record { is_void = false; name = name_main; params = ([]); vars = []; pre = (record { opened = []; facts = ([]); locals = []; items = ((Data (Number (pos 64)) (Global name_g) (Of2 binary.Cons (Of unary.Vi (Number (pos 3))) Nil)) ∷ (Data (Number (pos 64)) (Global name_x) (Of2 binary.Cons (Of unary.Vi (Number (pos 3))) Nil)) ∷ []) }); post = (record { opened = []; facts = ((Rel relation.Eq (Var 0 sort.Val) (Of unary.Vi (Number (pos 0)))) ∷ []); locals = []; items = ((Data (Number (pos 64)) (Global name_g) (Of2 binary.Cons (Of unary.Vi (Number (pos 3))) Nil)) ∷ (Data (Number (pos 64)) (Global name_x) (Of2 binary.Cons (Of unary.Vi (Number (pos 3))) Nil)) ∷ []) }) }) ∷ []) }) (record { is_void = false; name = name_f; params = (name_n0 ∷ []); vars = ((name_a0, sort.Int) ∷ []); pre = (record { opened = []; facts = ((Rel relation.Le (Number (pos 0)) (Var 0 sort.Int)) ∷ (Rel relation.Le (Var 0 sort.Int) (Number (pos 9))) ∷ []); locals = ((name_n0, (Of unary.Vi (Var 0 sort.Int))) ∷ []); items = ((Data (Number (pos 64)) (Global name_g) (Of2 binary.Cons (Of unary.Vi (Number (pos 3))) Nil)) ∷ (Data (Number (pos 64)) (Global name_x) (Of2 binary.Cons (Of unary.Vi (Number (pos 3))) Nil)) ∷ []) }); post = (record { opened = []; facts = ((Rel relation.Eq (Var 1 sort.Val) (Of unary.Vi (Number (pos 7)))) ∷ []); locals = []; items = ((Data (Number (pos 64)) (Global name_g) (Of2 binary.Cons (Of unary.Vi (Number (pos 3))) Nil)) ∷ (Data (Number (pos 64)) (Global name_x) (Of2 binary.Cons (Of unary.Vi (Number (pos 3))) Nil)) ∷ []) }) }) (record { temps = (name_n0 ∷ name_s ∷ name_t ∷ name_i ∷ name_x1 ∷ name_d0 ∷ name_p1 ∷ name_q1 ∷ []); body = (c.Then (c.Set 1 (c.Const 2)) (c.Then (c.Set 2 (c.Const 0)) (c.Then (c.Call None name_nop ([])) (c.Then (c.Store (root.Global name_x 1) c.Here (c.Const 3)) (c.Then (c.Return (Some (c.Const 7))) c.End))))) }) (s.Then 1 (s.Set ([]) ([])) s.NoBlock (s.Then 2 (s.Set ([]) ([])) s.NoBlock (s.Then 3 (s.Set ([]) ([])) s.NoBlock (s.Then 4 (s.Call ([]) ([]) ([]) ([])) s.NoBlock (s.Then 5 (s.Store 1 ([]) ([])) s.NoBlock (s.Then 6 (s.Return ([]) ([]) ([])) s.NoBlock s.End)))))) ≡ (RefusedAt 3 2 1)
unfolding computing
random_353 = refl

random_354 : body_verdict (record { predicates = ([]); specs = ((record { is_void = true; name = name_nop; params = ([]); vars = []; pre = (record { opened = []; facts = ([]); locals = []; items = ([]) }); post = (record { opened = []; facts = ([]); locals = []; items = ([]) }) }) ∷ (record { is_void = false; name = name_f; params = (name_n0 ∷ []); vars = ((name_a0, sort.Int) ∷ []); pre = (record { opened = []; facts = ((Rel relation.Le (Number (pos 0)) (Var 0 sort.Int)) ∷ (Rel relation.Le (Var 0 sort.Int) (Number (pos 9))) ∷ []); locals = ((name_n0, (Of unary.Vi (Var 0 sort.Int))) ∷ []); items = ((Data (Number (pos 64)) (Global name_g) (Of2 binary.Cons (Of unary.Vi (Number (pos 3))) Nil)) ∷ (Data (Number (pos 64)) (Global name_x) (Of2 binary.Cons (Of unary.Vi (Number (pos 3))) Nil)) ∷ []) }); post = (record { opened = []; facts = ((Rel relation.Eq (Var 1 sort.Val) (Of unary.Vi (Number (pos 7)))) ∷ []); locals = []; items = ((Data (Number (pos 64)) (Global name_g) (Of2 binary.Cons (Of unary.Vi (Number (pos 3))) Nil)) ∷ (Data (Number (pos 64)) (Global name_x) (Of2 binary.Cons (Of unary.Vi (Number (pos 3))) Nil)) ∷ []) }) }) ∷ (record { is_void = false; name = name_main; params = ([]); vars = []; pre = (record { opened = []; facts = ([]); locals = []; items = ((Data (Number (pos 64)) (Global name_g) (Of2 binary.Cons (Of unary.Vi (Number (pos 3))) Nil)) ∷ (Data (Number (pos 64)) (Global name_x) (Of2 binary.Cons (Of unary.Vi (Number (pos 3))) Nil)) ∷ []) }); post = (record { opened = []; facts = ((Rel relation.Eq (Var 0 sort.Val) (Of unary.Vi (Number (pos 0)))) ∷ []); locals = []; items = ((Data (Number (pos 64)) (Global name_g) (Of2 binary.Cons (Of unary.Vi (Number (pos 3))) Nil)) ∷ (Data (Number (pos 64)) (Global name_x) (Of2 binary.Cons (Of unary.Vi (Number (pos 3))) Nil)) ∷ []) }) }) ∷ []) }) (record { is_void = false; name = name_f; params = (name_n0 ∷ []); vars = ((name_a0, sort.Int) ∷ []); pre = (record { opened = []; facts = ((Rel relation.Le (Number (pos 0)) (Var 0 sort.Int)) ∷ (Rel relation.Le (Var 0 sort.Int) (Number (pos 9))) ∷ []); locals = ((name_n0, (Of unary.Vi (Var 0 sort.Int))) ∷ []); items = ((Data (Number (pos 64)) (Global name_g) (Of2 binary.Cons (Of unary.Vi (Number (pos 3))) Nil)) ∷ (Data (Number (pos 64)) (Global name_x) (Of2 binary.Cons (Of unary.Vi (Number (pos 3))) Nil)) ∷ []) }); post = (record { opened = []; facts = ((Rel relation.Eq (Var 1 sort.Val) (Of unary.Vi (Number (pos 7)))) ∷ []); locals = []; items = ((Data (Number (pos 64)) (Global name_g) (Of2 binary.Cons (Of unary.Vi (Number (pos 3))) Nil)) ∷ (Data (Number (pos 64)) (Global name_x) (Of2 binary.Cons (Of unary.Vi (Number (pos 3))) Nil)) ∷ []) }) }) (record { temps = (name_n0 ∷ name_s ∷ name_t ∷ name_i ∷ name_x1 ∷ name_d0 ∷ name_p1 ∷ name_q1 ∷ []); body = (c.Then (c.Set 1 (c.Const 2)) (c.Then (c.Set 2 (c.Const 0)) (c.Then (c.Call None name_nop ([])) (c.Then (c.Store (root.Global name_x 1) c.Here (c.Const 3)) (c.Then (c.Return (Some (c.Const 7))) c.End))))) }) (s.Then 1 (s.Set ([]) ([])) s.NoBlock (s.Then 2 (s.Set ([]) ([])) s.NoBlock (s.Then 3 (s.Call ([]) ([]) ([]) ([])) s.NoBlock (s.Then 4 (s.Store 3 ([]) ([])) s.NoBlock (s.Then 5 (s.Return ([]) ([]) ([])) s.NoBlock s.End))))) ≡ (RefusedAt 4 4 1)
unfolding computing
random_354 = refl

random_355 : body_verdict (record { predicates = ([]); specs = ((record { is_void = true; name = name_nop; params = ([]); vars = []; pre = (record { opened = []; facts = ([]); locals = []; items = ([]) }); post = (record { opened = []; facts = ([]); locals = []; items = ([]) }) }) ∷ (record { is_void = false; name = name_f; params = (name_n0 ∷ []); vars = ((name_a0, sort.Int) ∷ []); pre = (record { opened = []; facts = ((Rel relation.Le (Number (pos 0)) (Var 0 sort.Int)) ∷ (Rel relation.Le (Var 0 sort.Int) (Number (pos 9))) ∷ []); locals = ((name_n0, (Of unary.Vi (Var 0 sort.Int))) ∷ []); items = ((Data (Number (pos 64)) (Global name_g) (Of2 binary.Cons (Of unary.Vi (Number (pos 3))) Nil)) ∷ (Data (Number (pos 64)) (Global name_x) (Of2 binary.Cons (Of unary.Vi (Number (pos 3))) Nil)) ∷ []) }); post = (record { opened = []; facts = ((Rel relation.Eq (Var 1 sort.Val) (Of unary.Vi (Number (pos 7)))) ∷ []); locals = []; items = ((Data (Number (pos 64)) (Global name_g) (Of2 binary.Cons (Of unary.Vi (Number (pos 3))) Nil)) ∷ (Data (Number (pos 64)) (Global name_x) (Of2 binary.Cons (Of unary.Vi (Number (pos 3))) Nil)) ∷ []) }) }) ∷ (record { is_void = false; name = name_main; params = ([]); vars = []; pre = (record { opened = []; facts = ([]); locals = []; items = ((Data (Number (pos 64)) (Global name_g) (Of2 binary.Cons (Of unary.Vi (Number (pos 3))) Nil)) ∷ (Data (Number (pos 64)) (Global name_x) (Of2 binary.Cons (Of unary.Vi (Number (pos 3))) Nil)) ∷ []) }); post = (record { opened = []; facts = ((Rel relation.Eq (Var 0 sort.Val) (Of unary.Vi (Number (pos 0)))) ∷ []); locals = []; items = ((Data (Number (pos 64)) (Global name_g) (Of2 binary.Cons (Of unary.Vi (Number (pos 3))) Nil)) ∷ (Data (Number (pos 64)) (Global name_x) (Of2 binary.Cons (Of unary.Vi (Number (pos 3))) Nil)) ∷ []) }) }) ∷ []) }) (record { is_void = false; name = name_f; params = (name_n0 ∷ []); vars = ((name_a0, sort.Int) ∷ []); pre = (record { opened = []; facts = ((Rel relation.Le (Number (pos 0)) (Var 0 sort.Int)) ∷ (Rel relation.Le (Var 0 sort.Int) (Number (pos 9))) ∷ []); locals = ((name_n0, (Of unary.Vi (Var 0 sort.Int))) ∷ []); items = ((Data (Number (pos 64)) (Global name_g) (Of2 binary.Cons (Of unary.Vi (Number (pos 3))) Nil)) ∷ (Data (Number (pos 64)) (Global name_x) (Of2 binary.Cons (Of unary.Vi (Number (pos 3))) Nil)) ∷ []) }); post = (record { opened = []; facts = ((Rel relation.Eq (Var 1 sort.Val) (Of unary.Vi (Number (pos 7)))) ∷ []); locals = []; items = ((Data (Number (pos 64)) (Global name_g) (Of2 binary.Cons (Of unary.Vi (Number (pos 3))) Nil)) ∷ (Data (Number (pos 64)) (Global name_x) (Of2 binary.Cons (Of unary.Vi (Number (pos 3))) Nil)) ∷ []) }) }) (record { temps = (name_n0 ∷ name_s ∷ name_t ∷ name_i ∷ name_x1 ∷ name_d0 ∷ name_p1 ∷ name_q1 ∷ []); body = (c.Then (c.Set 1 (c.Const 2)) (c.Then (c.Set 2 (c.Const 0)) (c.Then (c.Call None name_nop ([])) (c.Then (c.Store (root.Global name_x 1) c.Here (c.Const 3)) (c.Then (c.Return (Some (c.Const 7))) c.End))))) }) (s.Then 1 (s.Set ([]) ([])) s.NoBlock (s.Then 2 (s.Set ([]) ([])) s.NoBlock (s.Then 3 (s.Call ([]) ([]) ([]) ([])) s.NoBlock (s.Then 4 (s.Store 4 ([]) ([])) s.NoBlock (s.Then 5 (s.Return ([]) ([]) ([])) s.NoBlock s.End))))) ≡ (RefusedAt 4 4 1)
unfolding computing
random_355 = refl

random_356 : body_verdict (record { predicates = ([]); specs = ((record { is_void = true; name = name_nop; params = ([]); vars = []; pre = (record { opened = []; facts = ([]); locals = []; items = ([]) }); post = (record { opened = []; facts = ([]); locals = []; items = ([]) }) }) ∷ (record { is_void = false; name = name_f; params = (name_n0 ∷ []); vars = ((name_a0, sort.Int) ∷ []); pre = (record { opened = []; facts = ((Rel relation.Le (Number (pos 0)) (Var 0 sort.Int)) ∷ (Rel relation.Le (Var 0 sort.Int) (Number (pos 9))) ∷ []); locals = ((name_n0, (Of unary.Vi (Var 0 sort.Int))) ∷ []); items = ((Data (Number (pos 64)) (Global name_g) (Of2 binary.Cons (Of unary.Vi (Number (pos 3))) Nil)) ∷ (Data (Number (pos 64)) (Global name_x) (Of2 binary.Cons (Of unary.Vi (Number (pos 3))) Nil)) ∷ []) }); post = (record { opened = []; facts = ((Rel relation.Eq (Var 1 sort.Val) (Of unary.Vi (Number (pos 7)))) ∷ []); locals = []; items = ((Data (Number (pos 64)) (Global name_g) (Of2 binary.Cons (Of unary.Vi (Number (pos 3))) Nil)) ∷ (Data (Number (pos 64)) (Global name_x) (Of2 binary.Cons (Of unary.Vi (Number (pos 3))) Nil)) ∷ []) }) }) ∷ (record { is_void = false; name = name_main; params = ([]); vars = []; pre = (record { opened = []; facts = ([]); locals = []; items = ((Data (Number (pos 64)) (Global name_g) (Of2 binary.Cons (Of unary.Vi (Number (pos 3))) Nil)) ∷ (Data (Number (pos 64)) (Global name_x) (Of2 binary.Cons (Of unary.Vi (Number (pos 3))) Nil)) ∷ []) }); post = (record { opened = []; facts = ((Rel relation.Eq (Var 0 sort.Val) (Of unary.Vi (Number (pos 0)))) ∷ []); locals = []; items = ((Data (Number (pos 64)) (Global name_g) (Of2 binary.Cons (Of unary.Vi (Number (pos 3))) Nil)) ∷ (Data (Number (pos 64)) (Global name_x) (Of2 binary.Cons (Of unary.Vi (Number (pos 3))) Nil)) ∷ []) }) }) ∷ []) }) (record { is_void = false; name = name_f; params = (name_n0 ∷ []); vars = ((name_a0, sort.Int) ∷ []); pre = (record { opened = []; facts = ((Rel relation.Le (Number (pos 0)) (Var 0 sort.Int)) ∷ (Rel relation.Le (Var 0 sort.Int) (Number (pos 9))) ∷ []); locals = ((name_n0, (Of unary.Vi (Var 0 sort.Int))) ∷ []); items = ((Data (Number (pos 64)) (Global name_g) (Of2 binary.Cons (Of unary.Vi (Number (pos 3))) Nil)) ∷ (Data (Number (pos 64)) (Global name_x) (Of2 binary.Cons (Of unary.Vi (Number (pos 3))) Nil)) ∷ []) }); post = (record { opened = []; facts = ((Rel relation.Eq (Var 1 sort.Val) (Of unary.Vi (Number (pos 7)))) ∷ []); locals = []; items = ((Data (Number (pos 64)) (Global name_g) (Of2 binary.Cons (Of unary.Vi (Number (pos 3))) Nil)) ∷ (Data (Number (pos 64)) (Global name_x) (Of2 binary.Cons (Of unary.Vi (Number (pos 3))) Nil)) ∷ []) }) }) (record { temps = (name_n0 ∷ name_s ∷ name_t ∷ name_i ∷ name_x1 ∷ name_d0 ∷ name_p1 ∷ name_q1 ∷ []); body = (c.Then (c.Set 1 (c.Const 2)) (c.Then (c.Set 2 (c.Const 0)) (c.Then (c.Call None name_nop ([])) (c.Then (c.Store (root.Global name_x 1) c.Here (c.Const 3)) (c.Then (c.Return (Some (c.Const 7))) c.End))))) }) (s.Then 1 (s.Set ([]) ([])) s.NoBlock (s.Then 2 (s.Set ([]) ([])) s.NoBlock (s.Then 3 (s.Store 1 ([]) ([])) s.NoBlock (s.Then 4 (s.Return ([]) ([]) ([])) s.NoBlock s.End)))) ≡ (RefusedAt 3 4 1)
unfolding computing
random_356 = refl

random_357 : body_verdict (record { predicates = ([]); specs = ((record { is_void = true; name = name_nop; params = ([]); vars = []; pre = (record { opened = []; facts = ([]); locals = []; items = ([]) }); post = (record { opened = []; facts = ([]); locals = []; items = ([]) }) }) ∷ (record { is_void = false; name = name_f; params = (name_n0 ∷ []); vars = ((name_a0, sort.Int) ∷ []); pre = (record { opened = []; facts = ((Rel relation.Le (Number (pos 0)) (Var 0 sort.Int)) ∷ (Rel relation.Le (Var 0 sort.Int) (Number (pos 9))) ∷ []); locals = ((name_n0, (Of unary.Vi (Var 0 sort.Int))) ∷ []); items = ((Data (Number (pos 64)) (Global name_g) (Of2 binary.Cons (Of unary.Vi (Number (pos 3))) Nil)) ∷ (Data (Number (pos 64)) (Global name_x) (Of2 binary.Cons (Of unary.Vi (Number (pos 3))) Nil)) ∷ []) }); post = (record { opened = []; facts = ((Rel relation.Eq (Var 1 sort.Val) (Of unary.Vi (Number (pos 7)))) ∷ []); locals = []; items = ((Data (Number (pos 64)) (Global name_g) (Of2 binary.Cons (Of unary.Vi (Number (pos 3))) Nil)) ∷ (Data (Number (pos 64)) (Global name_x) (Of2 binary.Cons (Of unary.Vi (Number (pos 3))) Nil)) ∷ []) }) }) ∷ (record { is_void = false; name = name_main; params = ([]); vars = []; pre = (record { opened = []; facts = ([]); locals = []; items = ((Data (Number (pos 64)) (Global name_g) (Of2 binary.Cons (Of unary.Vi (Number (pos 3))) Nil)) ∷ (Data (Number (pos 64)) (Global name_x) (Of2 binary.Cons (Of unary.Vi (Number (pos 3))) Nil)) ∷ []) }); post = (record { opened = []; facts = ((Rel relation.Eq (Var 0 sort.Val) (Of unary.Vi (Number (pos 0)))) ∷ []); locals = []; items = ((Data (Number (pos 64)) (Global name_g) (Of2 binary.Cons (Of unary.Vi (Number (pos 3))) Nil)) ∷ (Data (Number (pos 64)) (Global name_x) (Of2 binary.Cons (Of unary.Vi (Number (pos 3))) Nil)) ∷ []) }) }) ∷ []) }) (record { is_void = false; name = name_f; params = (name_n0 ∷ []); vars = ((name_a0, sort.Int) ∷ []); pre = (record { opened = []; facts = ((Rel relation.Le (Number (pos 0)) (Var 0 sort.Int)) ∷ (Rel relation.Le (Var 0 sort.Int) (Number (pos 9))) ∷ []); locals = ((name_n0, (Of unary.Vi (Var 0 sort.Int))) ∷ []); items = ((Data (Number (pos 64)) (Global name_g) (Of2 binary.Cons (Of unary.Vi (Number (pos 3))) Nil)) ∷ (Data (Number (pos 64)) (Global name_x) (Of2 binary.Cons (Of unary.Vi (Number (pos 3))) Nil)) ∷ []) }); post = (record { opened = []; facts = ((Rel relation.Eq (Var 1 sort.Val) (Of unary.Vi (Number (pos 7)))) ∷ []); locals = []; items = ((Data (Number (pos 64)) (Global name_g) (Of2 binary.Cons (Of unary.Vi (Number (pos 3))) Nil)) ∷ (Data (Number (pos 64)) (Global name_x) (Of2 binary.Cons (Of unary.Vi (Number (pos 3))) Nil)) ∷ []) }) }) (record { temps = (name_n0 ∷ name_s ∷ name_t ∷ name_i ∷ name_x1 ∷ name_d0 ∷ name_p1 ∷ name_q1 ∷ []); body = (c.Then (c.Set 1 (c.Const 2)) (c.Then (c.Set 2 (c.Const 0)) (c.Then (c.Call None name_nop ([])) (c.Then (c.Store (root.Global name_x 1) c.Here (c.Const 3)) (c.Then (c.Return (Some (c.Const 7))) c.End))))) }) (s.Then 1 (s.Set ([]) ([])) s.NoBlock (s.Then 2 (s.Call ([]) ([]) ([]) ([])) s.NoBlock (s.Then 3 (s.Call ([]) ([]) ([]) ([])) s.NoBlock (s.Then 4 (s.Store 1 ([]) ([])) s.NoBlock (s.Then 5 (s.Return ([]) ([]) ([])) s.NoBlock s.End))))) ≡ (RefusedAt 2 13 1)
unfolding computing
random_357 = refl

random_358 : body_verdict (record { predicates = ([]); specs = ((record { is_void = true; name = name_nop; params = ([]); vars = []; pre = (record { opened = []; facts = ([]); locals = []; items = ([]) }); post = (record { opened = []; facts = ([]); locals = []; items = ([]) }) }) ∷ (record { is_void = false; name = name_f; params = (name_n0 ∷ []); vars = ((name_a0, sort.Int) ∷ []); pre = (record { opened = []; facts = ((Rel relation.Le (Number (pos 0)) (Var 0 sort.Int)) ∷ (Rel relation.Le (Var 0 sort.Int) (Number (pos 9))) ∷ []); locals = ((name_n0, (Of unary.Vi (Var 0 sort.Int))) ∷ []); items = ((Data (Number (pos 64)) (Global name_g) (Of2 binary.Cons (Of unary.Vi (Number (pos 3))) Nil)) ∷ (Data (Number (pos 64)) (Global name_x) (Of2 binary.Cons (Of unary.Vi (Number (pos 3))) Nil)) ∷ []) }); post = (record { opened = []; facts = ((Rel relation.Eq (Var 1 sort.Val) (Of unary.Vi (Number (pos 7)))) ∷ []); locals = []; items = ((Data (Number (pos 64)) (Global name_g) (Of2 binary.Cons (Of unary.Vi (Number (pos 3))) Nil)) ∷ (Data (Number (pos 64)) (Global name_x) (Of2 binary.Cons (Of unary.Vi (Number (pos 3))) Nil)) ∷ []) }) }) ∷ (record { is_void = false; name = name_main; params = ([]); vars = []; pre = (record { opened = []; facts = ([]); locals = []; items = ((Data (Number (pos 64)) (Global name_g) (Of2 binary.Cons (Of unary.Vi (Number (pos 3))) Nil)) ∷ (Data (Number (pos 64)) (Global name_x) (Of2 binary.Cons (Of unary.Vi (Number (pos 3))) Nil)) ∷ []) }); post = (record { opened = []; facts = ((Rel relation.Eq (Var 0 sort.Val) (Of unary.Vi (Number (pos 0)))) ∷ []); locals = []; items = ((Data (Number (pos 64)) (Global name_g) (Of2 binary.Cons (Of unary.Vi (Number (pos 3))) Nil)) ∷ (Data (Number (pos 64)) (Global name_x) (Of2 binary.Cons (Of unary.Vi (Number (pos 3))) Nil)) ∷ []) }) }) ∷ []) }) (record { is_void = false; name = name_f; params = (name_n0 ∷ []); vars = ((name_a0, sort.Int) ∷ []); pre = (record { opened = []; facts = ((Rel relation.Le (Number (pos 0)) (Var 0 sort.Int)) ∷ (Rel relation.Le (Var 0 sort.Int) (Number (pos 9))) ∷ []); locals = ((name_n0, (Of unary.Vi (Var 0 sort.Int))) ∷ []); items = ((Data (Number (pos 64)) (Global name_g) (Of2 binary.Cons (Of unary.Vi (Number (pos 3))) Nil)) ∷ (Data (Number (pos 64)) (Global name_x) (Of2 binary.Cons (Of unary.Vi (Number (pos 3))) Nil)) ∷ []) }); post = (record { opened = []; facts = ((Rel relation.Eq (Var 1 sort.Val) (Of unary.Vi (Number (pos 7)))) ∷ []); locals = []; items = ((Data (Number (pos 64)) (Global name_g) (Of2 binary.Cons (Of unary.Vi (Number (pos 3))) Nil)) ∷ (Data (Number (pos 64)) (Global name_x) (Of2 binary.Cons (Of unary.Vi (Number (pos 3))) Nil)) ∷ []) }) }) (record { temps = (name_n0 ∷ name_s ∷ name_t ∷ name_i ∷ name_x1 ∷ name_d0 ∷ name_p1 ∷ name_q1 ∷ []); body = (c.Then (c.Set 1 (c.Const 2)) (c.Then (c.Set 2 (c.Const 0)) (c.Then (c.Call None name_nop ([])) (c.Then (c.Store (root.Global name_x 1) c.Here (c.Const 3)) (c.Then (c.Return (Some (c.Const 7))) c.End))))) }) (s.Then 1 (s.Set ([]) ([])) s.NoBlock (s.Then 2 (s.Set ([]) ([])) s.NoBlock (s.Then 3 (s.Call ([]) ([]) ([]) ([])) s.NoBlock (s.Then 4 (s.Store 5 ([]) ([])) s.NoBlock (s.Then 5 (s.Return ([]) ([]) ([])) s.NoBlock s.End))))) ≡ (RefusedAt 4 4 1)
unfolding computing
random_358 = refl

random_359 : body_verdict (record { predicates = ([]); specs = ((record { is_void = true; name = name_nop; params = ([]); vars = []; pre = (record { opened = []; facts = ([]); locals = []; items = ([]) }); post = (record { opened = []; facts = ([]); locals = []; items = ([]) }) }) ∷ (record { is_void = false; name = name_f; params = (name_n0 ∷ []); vars = ((name_a0, sort.Int) ∷ []); pre = (record { opened = []; facts = ((Rel relation.Le (Number (pos 0)) (Var 0 sort.Int)) ∷ (Rel relation.Le (Var 0 sort.Int) (Number (pos 9))) ∷ []); locals = ((name_n0, (Of unary.Vi (Var 0 sort.Int))) ∷ []); items = ((Data (Number (pos 64)) (Global name_g) (Of2 binary.Cons (Of unary.Vi (Number (pos 3))) Nil)) ∷ (Data (Number (pos 64)) (Global name_x) (Of2 binary.Cons (Of unary.Vi (Number (pos 3))) Nil)) ∷ []) }); post = (record { opened = []; facts = ((Rel relation.Eq (Var 1 sort.Val) (Of unary.Vi (Number (pos 7)))) ∷ []); locals = []; items = ((Data (Number (pos 65)) (Global name_g) (Of2 binary.Cons (Of unary.Vi (Number (pos 3))) Nil)) ∷ (Data (Number (pos 64)) (Global name_x) (Of2 binary.Cons (Of unary.Vi (Number (pos 3))) Nil)) ∷ []) }) }) ∷ (record { is_void = false; name = name_main; params = ([]); vars = []; pre = (record { opened = []; facts = ([]); locals = []; items = ((Data (Number (pos 64)) (Global name_g) (Of2 binary.Cons (Of unary.Vi (Number (pos 3))) Nil)) ∷ (Data (Number (pos 64)) (Global name_x) (Of2 binary.Cons (Of unary.Vi (Number (pos 3))) Nil)) ∷ []) }); post = (record { opened = []; facts = ((Rel relation.Eq (Var 0 sort.Val) (Of unary.Vi (Number (pos 0)))) ∷ []); locals = []; items = ((Data (Number (pos 64)) (Global name_g) (Of2 binary.Cons (Of unary.Vi (Number (pos 3))) Nil)) ∷ (Data (Number (pos 64)) (Global name_x) (Of2 binary.Cons (Of unary.Vi (Number (pos 3))) Nil)) ∷ []) }) }) ∷ []) }) (record { is_void = false; name = name_f; params = (name_n0 ∷ []); vars = ((name_a0, sort.Int) ∷ []); pre = (record { opened = []; facts = ((Rel relation.Le (Number (pos 0)) (Var 0 sort.Int)) ∷ (Rel relation.Le (Var 0 sort.Int) (Number (pos 9))) ∷ []); locals = ((name_n0, (Of unary.Vi (Var 0 sort.Int))) ∷ []); items = ((Data (Number (pos 64)) (Global name_g) (Of2 binary.Cons (Of unary.Vi (Number (pos 3))) Nil)) ∷ (Data (Number (pos 64)) (Global name_x) (Of2 binary.Cons (Of unary.Vi (Number (pos 3))) Nil)) ∷ []) }); post = (record { opened = []; facts = ((Rel relation.Eq (Var 1 sort.Val) (Of unary.Vi (Number (pos 7)))) ∷ []); locals = []; items = ((Data (Number (pos 65)) (Global name_g) (Of2 binary.Cons (Of unary.Vi (Number (pos 3))) Nil)) ∷ (Data (Number (pos 64)) (Global name_x) (Of2 binary.Cons (Of unary.Vi (Number (pos 3))) Nil)) ∷ []) }) }) (record { temps = (name_n0 ∷ name_s ∷ name_t ∷ name_i ∷ name_x1 ∷ name_d0 ∷ name_p1 ∷ name_q1 ∷ []); body = (c.Then (c.Set 1 (c.Const 2)) (c.Then (c.Set 2 (c.Const 0)) (c.Then (c.Call None name_nop ([])) (c.Then (c.Store (root.Global name_x 1) c.Here (c.Const 3)) (c.Then (c.Return (Some (c.Const 7))) c.End))))) }) (s.Then 1 (s.Set ([]) ([])) s.NoBlock (s.Then 2 (s.Call ([]) ([]) ([]) ([])) s.NoBlock (s.Then 3 (s.Store 1 ([]) ([])) s.NoBlock (s.Then 4 (s.Return ([]) ([]) ([])) s.NoBlock s.End)))) ≡ (RefusedAt 2 13 1)
unfolding computing
random_359 = refl

random_360 : body_verdict (record { predicates = ([]); specs = ((record { is_void = false; name = name_main; params = ([]); vars = []; pre = (record { opened = []; facts = ([]); locals = []; items = ((Data (Number (pos 64)) (Global name_g) (Of2 binary.Cons (Of unary.Vi (Number (pos 3))) Nil)) ∷ (Data (Number (pos 64)) (Global name_x) (Of2 binary.Cons (Of unary.Vi (Number (pos 3))) Nil)) ∷ []) }); post = (record { opened = (sort.List ∷ []); facts = ([]); locals = []; items = ((Data (Number (pos 64)) (Global name_g) (Var 1 sort.List)) ∷ (Data (Number (pos 64)) (Global name_x) (Var 1 sort.List)) ∷ []) }) }) ∷ []) }) (record { is_void = false; name = name_main; params = ([]); vars = []; pre = (record { opened = []; facts = ([]); locals = []; items = ((Data (Number (pos 64)) (Global name_g) (Of2 binary.Cons (Of unary.Vi (Number (pos 3))) Nil)) ∷ (Data (Number (pos 64)) (Global name_x) (Of2 binary.Cons (Of unary.Vi (Number (pos 3))) Nil)) ∷ []) }); post = (record { opened = (sort.List ∷ []); facts = ([]); locals = []; items = ((Data (Number (pos 64)) (Global name_g) (Var 1 sort.List)) ∷ (Data (Number (pos 64)) (Global name_x) (Var 1 sort.List)) ∷ []) }) }) (record { temps = (name_s ∷ name_t ∷ name_i ∷ name_x1 ∷ name_d0 ∷ name_p1 ∷ name_q1 ∷ []); body = (c.Then (c.Set 0 (c.Const 3)) (c.Then (c.Set 1 (c.Const 0)) (c.Then (c.Set 2 (c.Const 0)) (c.Then (c.Loop (c.Then (c.If (c.Nonzero kind.Signed (c.Binary two.Lt kind.Signed (c.Temp 2) (c.Const 3))) (c.Then (c.Set 4 (c.Const 1)) (c.Then (c.Set 2 (c.Binary two.Add kind.Signed (c.Temp 2) (c.Const 1))) (c.Then c.Skip c.End))) (c.Then c.Break c.End)) c.End)) (c.Then (c.Return (Some (c.Temp 0))) c.End))))) }) (s.Then 1 (s.Set ([]) ([])) s.NoBlock (s.Then 2 (s.Set ([]) ([])) s.NoBlock (s.Then 3 (s.Set ([]) ([])) s.NoBlock (s.Then 4 (s.While (record { opened = (sort.Int ∷ []); facts = ((Rel relation.Le (Number (pos 0)) (Var 0 sort.Int)) ∷ (Rel relation.Le (Var 0 sort.Int) (Number (pos 3))) ∷ []); locals = ((name_s, (Of unary.Vi (Number (pos 3)))) ∷ (name_t, (Of unary.Vi (Number (pos 0)))) ∷ (name_i, (Of unary.Vi (Var 0 sort.Int))) ∷ []); items = ((Data (Number (pos 64)) (Global name_g) (Of2 binary.Cons (Of unary.Vi (Number (pos 3))) Nil)) ∷ (Data (Number (pos 64)) (Global name_x) (Of2 binary.Cons (Of unary.Vi (Number (pos 3))) Nil)) ∷ []) }) (record { opened = (sort.Int ∷ []); facts = ((Rel relation.Le (Number (pos 0)) (Var 0 sort.Int)) ∷ (Rel relation.Le (Var 0 sort.Int) (Number (pos 3))) ∷ (Rel relation.Le (Number (pos 3)) (Var 0 sort.Int)) ∷ []); locals = ((name_s, (Of unary.Vi (Number (pos 3)))) ∷ (name_t, (Of unary.Vi (Number (pos 0)))) ∷ (name_i, (Of unary.Vi (Var 0 sort.Int))) ∷ []); items = ((Data (Number (pos 64)) (Global name_g) (Of2 binary.Cons (Of unary.Vi (Number (pos 3))) Nil)) ∷ (Data (Number (pos 64)) (Global name_x) (Of2 binary.Cons (Of unary.Vi (Number (pos 3))) Nil)) ∷ []) }) (name_k2 ∷ []) ([]) (name_k1 ∷ [])) (s.WithBlock (s.Then 5 (s.Meet ((Number (pos 0)) ∷ []) ([])) s.NoBlock s.End) (s.WithBlock (s.Then 6 (s.If ([]) ((record { lines = ((line.Comb (((pos 1), 0) ∷ ((pos 1), 2) ∷ [])) ∷ []) }) ∷ (record { lines = ((line.Comb (((pos 1), 1) ∷ ((pos 1), 2) ∷ [])) ∷ []) }) ∷ []) ([]) ([])) (s.WithBlock (s.Then 7 (s.Set ([]) ([])) s.NoBlock (s.Then 8 (s.Set ([]) ((record { lines = ((line.Comb (((pos 1), 0) ∷ ((pos 1), 3) ∷ [])) ∷ []) }) ∷ (record { lines = ((line.Comb (((pos 1), 1) ∷ ((pos 1), 3) ∷ [])) ∷ []) }) ∷ (record { lines = ((line.Comb (((pos 1), 0) ∷ ((pos 1), 3) ∷ [])) ∷ []) }) ∷ (record { lines = ((line.Comb (((pos 1), 1) ∷ ((pos 1), 3) ∷ [])) ∷ []) }) ∷ [])) s.NoBlock (s.Then 9 s.Skip s.NoBlock (s.Then 10 (s.Fall ((Of2 binary.Add (Named name_k1) (Number (pos 1))) ∷ []) ((record { lines = ((line.Comb (((pos 1), 0) ∷ ((pos 1), 3) ∷ [])) ∷ []) }) ∷ [])) s.NoBlock s.End)))) (s.WithBlock (s.Then 11 (s.Break ((Named name_k1) ∷ []) ([])) s.NoBlock s.End) s.NoBlock)) s.End) s.NoBlock)) (s.Then 12 (s.Return ((Of2 binary.Cons (Of unary.Vi (Number (pos 3))) Nil) ∷ []) ([]) ([])) s.NoBlock s.End))))) ≡ Accepted
unfolding computing
random_360 = refl

random_361 : body_verdict (record { predicates = ([]); specs = ((record { is_void = false; name = name_main; params = ([]); vars = []; pre = (record { opened = []; facts = ([]); locals = []; items = ((Data (Number (pos 64)) (Global name_g) (Of2 binary.Cons (Of unary.Vi (Number (pos 3))) Nil)) ∷ (Data (Number (pos 64)) (Global name_x) (Of2 binary.Cons (Of unary.Vi (Number (pos 3))) Nil)) ∷ []) }); post = (record { opened = (sort.List ∷ []); facts = ([]); locals = []; items = ((Data (Number (pos 64)) (Global name_g) (Var 1 sort.List)) ∷ (Data (Number (pos 64)) (Global name_x) (Var 1 sort.List)) ∷ []) }) }) ∷ []) }) (record { is_void = false; name = name_main; params = ([]); vars = []; pre = (record { opened = []; facts = ([]); locals = []; items = ((Data (Number (pos 64)) (Global name_g) (Of2 binary.Cons (Of unary.Vi (Number (pos 3))) Nil)) ∷ (Data (Number (pos 64)) (Global name_x) (Of2 binary.Cons (Of unary.Vi (Number (pos 3))) Nil)) ∷ []) }); post = (record { opened = (sort.List ∷ []); facts = ([]); locals = []; items = ((Data (Number (pos 64)) (Global name_g) (Var 1 sort.List)) ∷ (Data (Number (pos 64)) (Global name_x) (Var 1 sort.List)) ∷ []) }) }) (record { temps = (name_s ∷ name_t ∷ name_i ∷ name_x1 ∷ name_d0 ∷ name_p1 ∷ name_q1 ∷ []); body = (c.Then (c.Set 0 (c.Const 3)) (c.Then (c.Set 1 (c.Const 0)) (c.Then (c.Set 2 (c.Const 0)) (c.Then (c.Loop (c.Then (c.If (c.Nonzero kind.Signed (c.Binary two.Lt kind.Signed (c.Temp 2) (c.Const 3))) (c.Then (c.Set 4 (c.Const 1)) (c.Then (c.Set 2 (c.Binary two.Add kind.Signed (c.Temp 2) (c.Const 1))) (c.Then c.Skip c.End))) (c.Then c.Break c.End)) c.End)) (c.Then (c.Return (Some (c.Temp 0))) c.End))))) }) (s.Then 1 (s.Set ([]) ([])) s.NoBlock (s.Then 2 (s.Set ([]) ([])) s.NoBlock (s.Then 3 (s.Set ([]) ([])) s.NoBlock (s.Then 4 (s.While (record { opened = (sort.Int ∷ []); facts = ((Rel relation.Le (Number (pos 0)) (Var 0 sort.Int)) ∷ (Rel relation.Le (Var 0 sort.Int) (Number (pos 3))) ∷ []); locals = ((name_s, (Of unary.Vi (Number (pos 3)))) ∷ (name_t, (Of unary.Vi (Number (pos 0)))) ∷ (name_i, (Of unary.Vi (Var 0 sort.Int))) ∷ []); items = ((Data (Number (pos 64)) (Global name_g) (Of2 binary.Cons (Of unary.Vi (Number (pos 3))) Nil)) ∷ (Data (Number (pos 64)) (Global name_x) (Of2 binary.Cons (Of unary.Vi (Number (pos 3))) Nil)) ∷ []) }) (record { opened = (sort.Int ∷ []); facts = ((Rel relation.Le (Number (pos 0)) (Var 0 sort.Int)) ∷ (Rel relation.Le (Var 0 sort.Int) (Number (pos 3))) ∷ (Rel relation.Le (Number (pos 3)) (Var 0 sort.Int)) ∷ []); locals = ((name_s, (Of unary.Vi (Number (pos 3)))) ∷ (name_t, (Of unary.Vi (Number (pos 0)))) ∷ (name_i, (Of unary.Vi (Var 0 sort.Int))) ∷ []); items = ((Data (Number (pos 64)) (Global name_g) (Of2 binary.Cons (Of unary.Vi (Number (pos 3))) Nil)) ∷ (Data (Number (pos 64)) (Global name_x) (Of2 binary.Cons (Of unary.Vi (Number (pos 3))) Nil)) ∷ []) }) (name_k2 ∷ []) ([]) (name_k1 ∷ [])) (s.WithBlock (s.Then 5 (s.Meet ((Number (pos 0)) ∷ []) ([])) s.NoBlock s.End) (s.WithBlock (s.Then 6 (s.If ([]) ((record { lines = ((line.Comb (((pos 1), 0) ∷ ((pos 1), 2) ∷ [])) ∷ []) }) ∷ (record { lines = ((line.Comb (((pos 1), 1) ∷ ((pos 1), 2) ∷ [])) ∷ []) }) ∷ []) ([]) ([])) (s.WithBlock (s.Then 7 (s.Set ([]) ([])) s.NoBlock (s.Then 8 (s.Set ([]) ((record { lines = ((line.Comb (((pos 1), 0) ∷ ((pos 1), 3) ∷ [])) ∷ []) }) ∷ (record { lines = ((line.Comb (((pos 1), 1) ∷ ((pos 1), 3) ∷ [])) ∷ []) }) ∷ (record { lines = ((line.Comb (((pos 1), 0) ∷ ((pos 1), 3) ∷ [])) ∷ []) }) ∷ (record { lines = ((line.Comb (((pos 1), 1) ∷ ((pos 2147483647), 3) ∷ [])) ∷ []) }) ∷ [])) s.NoBlock (s.Then 9 s.Skip s.NoBlock (s.Then 10 (s.Fall ((Of2 binary.Add (Named name_k1) (Number (pos 1))) ∷ []) ((record { lines = ((line.Comb (((pos 1), 0) ∷ ((pos 1), 3) ∷ [])) ∷ []) }) ∷ [])) s.NoBlock s.End)))) (s.WithBlock (s.Then 11 (s.Break ((Named name_k1) ∷ []) ([])) s.NoBlock s.End) s.NoBlock)) s.End) s.NoBlock)) (s.Then 12 (s.Return ((Of2 binary.Cons (Of unary.Vi (Number (pos 3))) Nil) ∷ []) ([]) ([])) s.NoBlock s.End))))) ≡ (RefusedAt 8 2 3)
unfolding computing
random_361 = refl

random_362 : body_verdict (record { predicates = ([]); specs = ((record { is_void = false; name = name_main; params = ([]); vars = []; pre = (record { opened = []; facts = ([]); locals = []; items = ((Data (Number (pos 64)) (Global name_g) (Of2 binary.Cons (Of unary.Vi (Number (pos 3))) Nil)) ∷ (Data (Number (pos 64)) (Global name_x) (Of2 binary.Cons (Of unary.Vi (Number (pos 3))) Nil)) ∷ []) }); post = (record { opened = (sort.List ∷ []); facts = ([]); locals = []; items = ((Data (Number (pos 64)) (Global name_x) (Var 1 sort.List)) ∷ (Data (Number (pos 64)) (Global name_x) (Var 1 sort.List)) ∷ []) }) }) ∷ []) }) (record { is_void = false; name = name_main; params = ([]); vars = []; pre = (record { opened = []; facts = ([]); locals = []; items = ((Data (Number (pos 64)) (Global name_g) (Of2 binary.Cons (Of unary.Vi (Number (pos 3))) Nil)) ∷ (Data (Number (pos 64)) (Global name_x) (Of2 binary.Cons (Of unary.Vi (Number (pos 3))) Nil)) ∷ []) }); post = (record { opened = (sort.List ∷ []); facts = ([]); locals = []; items = ((Data (Number (pos 64)) (Global name_x) (Var 1 sort.List)) ∷ (Data (Number (pos 64)) (Global name_x) (Var 1 sort.List)) ∷ []) }) }) (record { temps = (name_s ∷ name_t ∷ name_i ∷ name_x1 ∷ name_d0 ∷ name_p1 ∷ name_q1 ∷ []); body = (c.Then (c.Set 0 (c.Const 3)) (c.Then (c.Set 1 (c.Const 0)) (c.Then (c.Set 2 (c.Const 0)) (c.Then (c.Loop (c.Then (c.If (c.Nonzero kind.Signed (c.Binary two.Lt kind.Signed (c.Temp 2) (c.Const 3))) (c.Then (c.Set 4 (c.Const 1)) (c.Then (c.Set 2 (c.Binary two.Add kind.Signed (c.Temp 2) (c.Const 1))) (c.Then c.Skip c.End))) (c.Then c.Break c.End)) c.End)) (c.Then (c.Return (Some (c.Temp 0))) c.End))))) }) (s.Then 1 (s.Set ([]) ([])) s.NoBlock (s.Then 2 (s.Set ([]) ([])) s.NoBlock (s.Then 3 (s.Set ([]) ([])) s.NoBlock (s.Then 4 (s.While (record { opened = (sort.Int ∷ []); facts = ((Rel relation.Le (Number (pos 0)) (Var 0 sort.Int)) ∷ (Rel relation.Le (Var 0 sort.Int) (Number (pos 3))) ∷ []); locals = ((name_s, (Of unary.Vi (Number (pos 3)))) ∷ (name_t, (Of unary.Vi (Number (pos 0)))) ∷ (name_i, (Of unary.Vi (Var 0 sort.Int))) ∷ []); items = ((Data (Number (pos 64)) (Global name_g) (Of2 binary.Cons (Of unary.Vi (Number (pos 3))) Nil)) ∷ (Data (Number (pos 64)) (Global name_x) (Of2 binary.Cons (Of unary.Vi (Number (pos 3))) Nil)) ∷ []) }) (record { opened = (sort.Int ∷ []); facts = ((Rel relation.Le (Number (pos 0)) (Var 0 sort.Int)) ∷ (Rel relation.Le (Var 0 sort.Int) (Number (pos 3))) ∷ (Rel relation.Le (Number (pos 3)) (Var 0 sort.Int)) ∷ []); locals = ((name_s, (Of unary.Vi (Number (pos 3)))) ∷ (name_t, (Of unary.Vi (Number (pos 0)))) ∷ (name_i, (Of unary.Vi (Var 0 sort.Int))) ∷ []); items = ((Data (Number (pos 64)) (Global name_g) (Of2 binary.Cons (Of unary.Vi (Number (pos 3))) Nil)) ∷ (Data (Number (pos 64)) (Global name_x) (Of2 binary.Cons (Of unary.Vi (Number (pos 3))) Nil)) ∷ []) }) (name_k2 ∷ []) ([]) (name_k1 ∷ [])) (s.WithBlock (s.Then 5 (s.Meet ((Number (pos 0)) ∷ []) ([])) s.NoBlock s.End) (s.WithBlock (s.Then 6 (s.If ([]) ((record { lines = ((line.Comb (((pos 1), 0) ∷ ((pos 1), 2) ∷ [])) ∷ []) }) ∷ (record { lines = ((line.Comb (((pos 1), 1) ∷ ((pos 1), 2) ∷ [])) ∷ []) }) ∷ []) ([]) ([])) (s.WithBlock (s.Then 7 (s.Set ([]) ([])) s.NoBlock (s.Then 8 (s.Set ([]) ((record { lines = ((line.Comb (((pos 1), 0) ∷ ((pos 1), 3) ∷ [])) ∷ []) }) ∷ (record { lines = ((line.Comb (((pos 1), 1) ∷ ((pos 1), 3) ∷ [])) ∷ []) }) ∷ (record { lines = ((line.Comb (((pos 1), 0) ∷ ((pos 1), 3) ∷ [])) ∷ []) }) ∷ (record { lines = ((line.Comb (((pos 1), 1) ∷ ((pos 1), 3) ∷ [])) ∷ []) }) ∷ [])) s.NoBlock (s.Then 9 s.Skip s.NoBlock (s.Then 10 (s.Fall ((Of2 binary.Add (Named name_k1) (Number (pos 1))) ∷ []) ((record { lines = ((line.Comb (((pos 1), 0) ∷ ((pos 1), 3) ∷ [])) ∷ []) }) ∷ [])) s.NoBlock s.End)))) (s.WithBlock (s.Then 11 (s.Break ((Named name_k1) ∷ []) ([])) s.NoBlock s.End) s.NoBlock)) s.End) s.NoBlock)) (s.Then 12 (s.Return ((Of2 binary.Cons (Of unary.Vi (Number (pos 3))) Nil) ∷ []) ([]) ([])) s.NoBlock s.End))))) ≡ (RefusedAt 12 9 5)
unfolding computing
random_362 = refl

random_363 : body_verdict (record { predicates = ([]); specs = ((record { is_void = false; name = name_main; params = ([]); vars = []; pre = (record { opened = []; facts = ([]); locals = []; items = ((Data (Number (pos 64)) (Global name_g) (Of2 binary.Cons (Of unary.Vi (Number (pos 3))) Nil)) ∷ (Data (Number (pos 64)) (Global name_x) (Of2 binary.Cons (Of unary.Vi (Number (pos 3))) Nil)) ∷ []) }); post = (record { opened = (sort.List ∷ []); facts = ([]); locals = []; items = ((Data (Number (pos 64)) (Global name_g) (Var 1 sort.List)) ∷ (Data (Number (pos 64)) (Global name_x) (Var 1 sort.List)) ∷ []) }) }) ∷ []) }) (record { is_void = false; name = name_main; params = ([]); vars = []; pre = (record { opened = []; facts = ([]); locals = []; items = ((Data (Number (pos 64)) (Global name_g) (Of2 binary.Cons (Of unary.Vi (Number (pos 3))) Nil)) ∷ (Data (Number (pos 64)) (Global name_x) (Of2 binary.Cons (Of unary.Vi (Number (pos 3))) Nil)) ∷ []) }); post = (record { opened = (sort.List ∷ []); facts = ([]); locals = []; items = ((Data (Number (pos 64)) (Global name_g) (Var 1 sort.List)) ∷ (Data (Number (pos 64)) (Global name_x) (Var 1 sort.List)) ∷ []) }) }) (record { temps = (name_s ∷ name_t ∷ name_i ∷ name_x1 ∷ name_d0 ∷ name_p1 ∷ name_q1 ∷ []); body = (c.Then (c.Set 0 (c.Const 3)) (c.Then (c.Set 1 (c.Const 0)) (c.Then (c.Set 2 (c.Const 0)) (c.Then (c.Loop (c.Then (c.If (c.Nonzero kind.Signed (c.Binary two.Lt kind.Signed (c.Temp 2) (c.Const 3))) (c.Then (c.Set 4 (c.Const 1)) (c.Then (c.Set 2 (c.Binary two.Add kind.Signed (c.Temp 2) (c.Const 1))) (c.Then c.Skip c.End))) (c.Then c.Break c.End)) c.End)) (c.Then (c.Return (Some (c.Temp 0))) c.End))))) }) (s.Then 1 (s.Set ([]) ([])) s.NoBlock (s.Then 2 (s.Set ([]) ([])) s.NoBlock (s.Then 3 (s.Set ([]) ([])) s.NoBlock (s.Then 4 (s.While (record { opened = (sort.Int ∷ []); facts = ((Rel relation.Le (Number (pos 0)) (Var 0 sort.Int)) ∷ (Rel relation.Le (Var 0 sort.Int) (Number (pos 3))) ∷ []); locals = ((name_s, (Of unary.Vi (Number (pos 3)))) ∷ (name_t, (Of unary.Vi (Number (pos 0)))) ∷ (name_i, (Of unary.Vi (Var 0 sort.Int))) ∷ []); items = ((Data (Number (pos 64)) (Global name_g) (Of2 binary.Cons (Of unary.Vi (Number (pos 3))) Nil)) ∷ (Data (Number (pos 0)) (Global name_x) (Of2 binary.Cons (Of unary.Vi (Number (pos 3))) Nil)) ∷ []) }) (record { opened = (sort.Int ∷ []); facts = ((Rel relation.Le (Number (pos 0)) (Var 0 sort.Int)) ∷ (Rel relation.Le (Var 0 sort.Int) (Number (pos 3))) ∷ (Rel relation.Le (Number (pos 3)) (Var 0 sort.Int)) ∷ []); locals = ((name_s, (Of unary.Vi (Number (pos 3)))) ∷ (name_t, (Of unary.Vi (Number (pos 0)))) ∷ (name_i, (Of unary.Vi (Var 0 sort.Int))) ∷ []); items = ((Data (Number (pos 64)) (Global name_g) (Of2 binary.Cons (Of unary.Vi (Number (pos 3))) Nil)) ∷ (Data (Number (pos 64)) (Global name_x) (Of2 binary.Cons (Of unary.Vi (Number (pos 3))) Nil)) ∷ []) }) (name_k2 ∷ []) ([]) (name_k1 ∷ [])) (s.WithBlock (s.Then 5 (s.Meet ((Number (pos 0)) ∷ []) ([])) s.NoBlock s.End) (s.WithBlock (s.Then 6 (s.If ([]) ((record { lines = ((line.Comb (((pos 1), 0) ∷ ((pos 1), 2) ∷ [])) ∷ []) }) ∷ (record { lines = ((line.Comb (((pos 1), 1) ∷ ((pos 1), 2) ∷ [])) ∷ []) }) ∷ []) ([]) ([])) (s.WithBlock (s.Then 7 (s.Set ([]) ([])) s.NoBlock (s.Then 8 (s.Set ([]) ((record { lines = ((line.Comb (((pos 1), 0) ∷ ((pos 1), 3) ∷ [])) ∷ []) }) ∷ (record { lines = ((line.Comb (((pos 1), 1) ∷ ((pos 1), 3) ∷ [])) ∷ []) }) ∷ (record { lines = ((line.Comb (((pos 1), 0) ∷ ((pos 1), 3) ∷ [])) ∷ []) }) ∷ (record { lines = ((line.Comb (((pos 1), 1) ∷ ((pos 1), 3) ∷ [])) ∷ []) }) ∷ [])) s.NoBlock (s.Then 9 s.Skip s.NoBlock (s.Then 10 (s.Fall ((Of2 binary.Add (Named name_k1) (Number (pos 1))) ∷ (Of unary.Vi (Number (pos 0))) ∷ []) ((record { lines = ((line.Comb (((pos 1), 0) ∷ ((pos 1), 3) ∷ [])) ∷ []) }) ∷ [])) s.NoBlock s.End)))) (s.WithBlock (s.Then 11 (s.Break ((Named name_k1) ∷ []) ([])) s.NoBlock s.End) s.NoBlock)) s.End) s.NoBlock)) (s.Then 12 (s.Return ((Of2 binary.Cons (Of unary.Vi (Number (pos 3))) Nil) ∷ []) ([]) ([])) s.NoBlock s.End))))) ≡ (RefusedAt 5 37 5)
unfolding computing
random_363 = refl

random_364 : body_verdict (record { predicates = ([]); specs = ((record { is_void = false; name = name_main; params = ([]); vars = []; pre = (record { opened = []; facts = ([]); locals = []; items = ((Data (Number (pos 64)) (Global name_g) (Of2 binary.Cons (Of unary.Vi (Number (pos 3))) Nil)) ∷ (Data (Number (pos 64)) (Global name_x) (Of2 binary.Cons (Of unary.Vi (Number (pos 3))) Nil)) ∷ []) }); post = (record { opened = (sort.List ∷ []); facts = ([]); locals = []; items = ((Data (Number (pos 64)) (Global name_g) (Var 1 sort.List)) ∷ (Data (Number (pos 64)) (Global name_x) (Var 1 sort.List)) ∷ []) }) }) ∷ []) }) (record { is_void = false; name = name_main; params = ([]); vars = []; pre = (record { opened = []; facts = ([]); locals = []; items = ((Data (Number (pos 64)) (Global name_g) (Of2 binary.Cons (Of unary.Vi (Number (pos 3))) Nil)) ∷ (Data (Number (pos 64)) (Global name_x) (Of2 binary.Cons (Of unary.Vi (Number (pos 3))) Nil)) ∷ []) }); post = (record { opened = (sort.List ∷ []); facts = ([]); locals = []; items = ((Data (Number (pos 64)) (Global name_g) (Var 1 sort.List)) ∷ (Data (Number (pos 64)) (Global name_x) (Var 1 sort.List)) ∷ []) }) }) (record { temps = (name_s ∷ name_t ∷ name_i ∷ name_x1 ∷ name_d0 ∷ name_p1 ∷ name_q1 ∷ []); body = (c.Then (c.Set 0 (c.Const 3)) (c.Then (c.Set 1 (c.Const 0)) (c.Then (c.Set 2 (c.Const 0)) (c.Then (c.Loop (c.Then (c.If (c.Nonzero kind.Signed (c.Binary two.Lt kind.Signed (c.Temp 2) (c.Const 3))) (c.Then (c.Set 4 (c.Const 1)) (c.Then (c.Set 2 (c.Binary two.Add kind.Signed (c.Temp 2) (c.Const 1))) (c.Then c.Skip c.End))) (c.Then c.Break c.End)) c.End)) (c.Then (c.Return (Some (c.Temp 0))) c.End))))) }) (s.Then 1 (s.Set ([]) ([])) s.NoBlock (s.Then 2 (s.Set ([]) ([])) s.NoBlock (s.Then 3 (s.While (record { opened = (sort.Int ∷ []); facts = ((Rel relation.Le (Number (pos 0)) (Var 0 sort.Int)) ∷ (Rel relation.Le (Var 0 sort.Int) (Number (pos 3))) ∷ []); locals = ((name_s, (Of unary.Vi (Number (pos 3)))) ∷ (name_t, (Of unary.Vi (Number (pos 0)))) ∷ (name_i, (Of unary.Vi (Var 0 sort.Int))) ∷ []); items = ((Data (Number (pos 64)) (Global name_g) (Of2 binary.Cons (Of unary.Vi (Number (pos 3))) Nil)) ∷ (Data (Number (pos 64)) (Global name_x) (Of2 binary.Cons (Of unary.Vi (Number (pos 3))) Nil)) ∷ []) }) (record { opened = (sort.Int ∷ []); facts = ((Rel relation.Le (Number (pos 0)) (Var 0 sort.Int)) ∷ (Rel relation.Le (Var 0 sort.Int) (Number (pos 3))) ∷ (Rel relation.Le (Number (pos 3)) (Var 0 sort.Int)) ∷ []); locals = ((name_s, (Of unary.Vi (Number (pos 3)))) ∷ (name_t, (Of unary.Vi (Number (pos 0)))) ∷ (name_i, (Of unary.Vi (Var 0 sort.Int))) ∷ []); items = ((Data (Number (pos 64)) (Global name_g) (Of2 binary.Cons (Of unary.Vi (Number (pos 3))) Nil)) ∷ (Data (Number (pos 64)) (Global name_x) (Of2 binary.Cons (Of unary.Vi (Number (pos 3))) Nil)) ∷ []) }) (name_k2 ∷ []) ([]) (name_k1 ∷ [])) (s.WithBlock (s.Then 4 (s.Meet ((Number (pos 0)) ∷ []) ([])) s.NoBlock s.End) (s.WithBlock (s.Then 5 (s.If ([]) ((record { lines = ((line.Comb (((pos 1), 0) ∷ ((pos 1), 2) ∷ [])) ∷ []) }) ∷ (record { lines = ((line.Comb (((pos 1), 1) ∷ ((pos 1), 2) ∷ [])) ∷ []) }) ∷ []) ([]) ([])) (s.WithBlock (s.Then 6 (s.Set ([]) ([])) s.NoBlock (s.Then 7 (s.Set ([]) ((record { lines = ((line.Comb (((pos 1), 0) ∷ ((pos 1), 3) ∷ [])) ∷ []) }) ∷ (record { lines = ((line.Comb (((pos 1), 1) ∷ ((pos 1), 3) ∷ [])) ∷ []) }) ∷ (record { lines = ((line.Comb (((pos 1), 0) ∷ ((pos 1), 3) ∷ [])) ∷ []) }) ∷ (record { lines = ((line.Comb (((pos 1), 1) ∷ ((pos 1), 3) ∷ [])) ∷ []) }) ∷ [])) s.NoBlock (s.Then 8 s.Skip s.NoBlock (s.Then 9 (s.Fall ((Of2 binary.Add (Named name_k1) (Number (pos 1))) ∷ []) ((record { lines = ((line.Comb (((pos 1), 0) ∷ ((pos 1), 3) ∷ [])) ∷ []) }) ∷ [])) s.NoBlock s.End)))) (s.WithBlock (s.Then 10 (s.Break ((Named name_k1) ∷ []) ([])) s.NoBlock (s.Then 11 (s.Break ((Named name_k1) ∷ []) ([])) s.NoBlock s.End)) s.NoBlock)) s.End) s.NoBlock)) (s.Then 12 (s.Return ((Of2 binary.Cons (Of unary.Vi (Number (pos 3))) Nil) ∷ []) ([]) ([])) s.NoBlock s.End)))) ≡ (RefusedAt 3 6 1)
unfolding computing
random_364 = refl

random_365 : body_verdict (record { predicates = ([]); specs = ((record { is_void = false; name = name_main; params = ([]); vars = []; pre = (record { opened = []; facts = ([]); locals = []; items = ((Data (Number (pos 64)) (Global name_g) (Of2 binary.Cons (Of unary.Vi (Number (pos 3))) Nil)) ∷ (Data (Number (pos 64)) (Global name_x) (Of2 binary.Cons (Of unary.Vi (Number (pos 0))) Nil)) ∷ []) }); post = (record { opened = (sort.List ∷ []); facts = ([]); locals = []; items = ((Data (Number (pos 64)) (Global name_g) (Var 1 sort.List)) ∷ (Data (Number (pos 64)) (Global name_x) (Var 1 sort.List)) ∷ []) }) }) ∷ []) }) (record { is_void = false; name = name_main; params = ([]); vars = []; pre = (record { opened = []; facts = ([]); locals = []; items = ((Data (Number (pos 64)) (Global name_g) (Of2 binary.Cons (Of unary.Vi (Number (pos 3))) Nil)) ∷ (Data (Number (pos 64)) (Global name_x) (Of2 binary.Cons (Of unary.Vi (Number (pos 0))) Nil)) ∷ []) }); post = (record { opened = (sort.List ∷ []); facts = ([]); locals = []; items = ((Data (Number (pos 64)) (Global name_g) (Var 1 sort.List)) ∷ (Data (Number (pos 64)) (Global name_x) (Var 1 sort.List)) ∷ []) }) }) (record { temps = (name_s ∷ name_t ∷ name_i ∷ name_x1 ∷ name_d0 ∷ name_p1 ∷ name_q1 ∷ []); body = (c.Then (c.Set 0 (c.Const 3)) (c.Then (c.Set 1 (c.Const 0)) (c.Then (c.Set 2 (c.Const 0)) (c.Then (c.Loop (c.Then (c.If (c.Nonzero kind.Signed (c.Binary two.Lt kind.Signed (c.Temp 2) (c.Const 3))) (c.Then (c.Set 4 (c.Const 1)) (c.Then (c.Set 2 (c.Binary two.Add kind.Signed (c.Temp 2) (c.Const 1))) (c.Then c.Skip c.End))) (c.Then c.Break c.End)) c.End)) (c.Then (c.Return (Some (c.Temp 0))) c.End))))) }) (s.Then 1 (s.Set ([]) ([])) s.NoBlock (s.Then 2 (s.Set ([]) ([])) s.NoBlock (s.Then 3 (s.Set ([]) ([])) s.NoBlock (s.Then 4 (s.While (record { opened = (sort.Int ∷ []); facts = ((Rel relation.Le (Number (pos 0)) (Var 0 sort.Int)) ∷ (Rel relation.Le (Var 0 sort.Int) (Number (pos 3))) ∷ []); locals = ((name_s, (Of unary.Vi (Number (pos 3)))) ∷ (name_t, (Of unary.Vi (Number (pos 0)))) ∷ (name_i, (Of unary.Vi (Var 0 sort.Int))) ∷ []); items = ((Data (Number (pos 64)) (Global name_g) (Of2 binary.Cons (Of unary.Vi (Number (pos 3))) Nil)) ∷ (Data (Number (pos 64)) (Global name_x) (Of2 binary.Cons (Of unary.Vi (Number (pos 3))) Nil)) ∷ []) }) (record { opened = (sort.Int ∷ []); facts = ((Rel relation.Le (Number (pos 0)) (Var 0 sort.Int)) ∷ (Rel relation.Le (Var 0 sort.Int) (Number (pos 3))) ∷ (Rel relation.Le (Number (pos 3)) (Var 0 sort.Int)) ∷ []); locals = ((name_s, (Of unary.Vi (Number (pos 3)))) ∷ (name_t, (Of unary.Vi (Number (pos 0)))) ∷ (name_i, (Of unary.Vi (Var 0 sort.Int))) ∷ []); items = ((Data (Number (pos 64)) (Global name_g) (Of2 binary.Cons (Of unary.Vi (Number (pos 3))) Nil)) ∷ (Data (Number (pos 64)) (Global name_x) (Of2 binary.Cons (Of unary.Vi (Number (pos 3))) Nil)) ∷ []) }) (name_k2 ∷ []) ([]) (name_k1 ∷ [])) (s.WithBlock (s.Then 5 (s.Meet ((Number (pos 0)) ∷ []) ([])) s.NoBlock s.End) (s.WithBlock (s.Then 6 (s.If ([]) ((record { lines = ((line.Comb (((pos 1), 0) ∷ ((pos 1), 2) ∷ [])) ∷ []) }) ∷ (record { lines = ((line.Comb (((pos 1), 1) ∷ ((pos 1), 2) ∷ [])) ∷ []) }) ∷ []) ([]) ([])) (s.WithBlock (s.Then 7 (s.Set ([]) ([])) s.NoBlock (s.Then 8 (s.Set ([]) ((record { lines = ((line.Comb (((pos 1), 0) ∷ ((pos 1), 3) ∷ [])) ∷ []) }) ∷ (record { lines = ((line.Comb (((pos 1), 1) ∷ ((pos 1), 3) ∷ [])) ∷ []) }) ∷ (record { lines = ((line.Comb (((pos 1), 0) ∷ ((pos 1), 3) ∷ [])) ∷ []) }) ∷ (record { lines = ((line.Comb (((pos 1), 1) ∷ ((pos 1), 3) ∷ [])) ∷ []) }) ∷ [])) s.NoBlock (s.Then 9 (s.Fall ((Of2 binary.Add (Named name_k1) (Number (pos 1))) ∷ []) ((record { lines = ((line.Comb (((pos 1), 0) ∷ ((pos 1), 3) ∷ [])) ∷ []) }) ∷ [])) s.NoBlock s.End))) (s.WithBlock (s.Then 10 (s.Break ((Named name_k1) ∷ []) ([])) s.NoBlock s.End) s.NoBlock)) s.End) s.NoBlock)) (s.Then 11 (s.Return ((Of2 binary.Cons (Of unary.Vi (Number (pos 3))) Nil) ∷ []) ([]) ([])) s.NoBlock s.End))))) ≡ (RefusedAt 5 37 5)
unfolding computing
random_365 = refl

random_366 : body_verdict (record { predicates = ([]); specs = ((record { is_void = false; name = name_main; params = ([]); vars = []; pre = (record { opened = []; facts = ([]); locals = []; items = ((Data (Number (pos 64)) (Global name_g) (Of2 binary.Cons (Of unary.Vi (Number (pos 3))) Nil)) ∷ (Data (Number (pos 64)) (Global name_x) (Of2 binary.Cons (Of unary.Vi (Number (pos 3))) Nil)) ∷ []) }); post = (record { opened = (sort.List ∷ []); facts = ([]); locals = []; items = ((Data (Number (pos 64)) (Global name_g) (Var 1 sort.List)) ∷ (Data (Number (pos 64)) (Global name_x) (Var 1 sort.List)) ∷ []) }) }) ∷ []) }) (record { is_void = false; name = name_main; params = ([]); vars = []; pre = (record { opened = []; facts = ([]); locals = []; items = ((Data (Number (pos 64)) (Global name_g) (Of2 binary.Cons (Of unary.Vi (Number (pos 3))) Nil)) ∷ (Data (Number (pos 64)) (Global name_x) (Of2 binary.Cons (Of unary.Vi (Number (pos 3))) Nil)) ∷ []) }); post = (record { opened = (sort.List ∷ []); facts = ([]); locals = []; items = ((Data (Number (pos 64)) (Global name_g) (Var 1 sort.List)) ∷ (Data (Number (pos 64)) (Global name_x) (Var 1 sort.List)) ∷ []) }) }) (record { temps = (name_s ∷ name_t ∷ name_i ∷ name_x1 ∷ name_d0 ∷ name_p1 ∷ name_q1 ∷ []); body = (c.Then (c.Set 0 (c.Const 3)) (c.Then (c.Set 1 (c.Const 0)) (c.Then (c.Set 2 (c.Const 0)) (c.Then (c.Loop (c.Then (c.If (c.Nonzero kind.Signed (c.Binary two.Lt kind.Signed (c.Temp 2) (c.Const 3))) (c.Then (c.Set 4 (c.Const 1)) (c.Then (c.Set 2 (c.Binary two.Add kind.Signed (c.Temp 2) (c.Const 1))) (c.Then c.Skip c.End))) (c.Then c.Break c.End)) c.End)) (c.Then (c.Return (Some (c.Temp 0))) c.End))))) }) (s.Then 1 (s.Set ([]) ([])) s.NoBlock (s.Then 2 (s.Set ([]) ([])) s.NoBlock (s.Then 3 (s.Set ([]) ([])) s.NoBlock (s.Then 4 (s.While (record { opened = (sort.Int ∷ []); facts = ((Rel relation.Le (Number (pos 0)) (Var 0 sort.Int)) ∷ (Rel relation.Le (Var 0 sort.Int) (Number (pos 3))) ∷ []); locals = ((name_s, (Of unary.Vi (Number (pos 3)))) ∷ (name_t, (Of unary.Vi (Number (pos 0)))) ∷ (name_i, (Of unary.Vi (Var 0 sort.Int))) ∷ []); items = ((Data (Number (pos 64)) (Global name_g) (Of2 binary.Cons (Of unary.Vi (Number (pos 3))) Nil)) ∷ (Data (Number (pos 64)) (Global name_x) (Of2 binary.Cons (Of unary.Vi (Number (pos 3))) Nil)) ∷ []) }) (record { opened = (sort.Int ∷ []); facts = ((Rel relation.Le (Number (pos 0)) (Var 0 sort.Int)) ∷ (Rel relation.Le (Var 0 sort.Int) (Number (pos 3))) ∷ (Rel relation.Le (Number (pos 3)) (Var 0 sort.Int)) ∷ []); locals = ((name_s, (Of unary.Vi (Number (pos 3)))) ∷ (name_t, (Of unary.Vi (Number (pos 0)))) ∷ (name_i, (Of unary.Vi (Var 0 sort.Int))) ∷ []); items = ((Data (Number (pos 64)) (Global name_g) (Of2 binary.Cons (Of unary.Vi (Number (pos 3))) Nil)) ∷ (Data (Number (pos 64)) (Global name_x) (Of2 binary.Cons (Of unary.Vi (Number (pos 3))) Nil)) ∷ []) }) (name_k2 ∷ []) ([]) (name_k1 ∷ [])) (s.WithBlock (s.Then 5 (s.Continue ((Number (pos 0)) ∷ []) ([])) s.NoBlock s.End) (s.WithBlock (s.Then 6 (s.If ([]) ((record { lines = ((line.Comb (((pos 1), 0) ∷ ((pos 1), 2) ∷ [])) ∷ []) }) ∷ (record { lines = ((line.Comb (((pos 1), 1) ∷ ((pos 1), 2) ∷ [])) ∷ []) }) ∷ []) ([]) ([])) (s.WithBlock (s.Then 7 (s.Set ([]) ([])) s.NoBlock (s.Then 8 (s.Set ([]) ((record { lines = ((line.Comb (((pos 1), 0) ∷ ((pos 1), 3) ∷ [])) ∷ []) }) ∷ (record { lines = ((line.Comb (((pos 1), 1) ∷ ((pos 1), 3) ∷ [])) ∷ []) }) ∷ (record { lines = ((line.Comb (((pos 1), 0) ∷ ((pos 1), 3) ∷ [])) ∷ []) }) ∷ (record { lines = ((line.Comb (((pos 1), 1) ∷ ((pos 1), 3) ∷ [])) ∷ []) }) ∷ [])) s.NoBlock (s.Then 9 s.Skip s.NoBlock (s.Then 10 (s.Fall ((Of2 binary.Add (Named name_k1) (Number (pos 1))) ∷ []) ((record { lines = ((line.Comb (((pos 1), 0) ∷ ((pos 1), 3) ∷ [])) ∷ []) }) ∷ [])) s.NoBlock s.End)))) (s.WithBlock (s.Then 11 (s.Break ((Named name_k1) ∷ []) ([])) s.NoBlock s.End) s.NoBlock)) s.End) s.NoBlock)) (s.Then 12 (s.Return ((Of2 binary.Cons (Of unary.Vi (Number (pos 3))) Nil) ∷ []) ([]) ([])) s.NoBlock s.End))))) ≡ (RefusedAt 5 8 1)
unfolding computing
random_366 = refl

random_367 : body_verdict (record { predicates = ([]); specs = ((record { is_void = false; name = name_main; params = ([]); vars = []; pre = (record { opened = []; facts = ([]); locals = []; items = ((Data (Number (pos 64)) (Global name_g) (Of2 binary.Cons (Of unary.Vi (Number (pos 3))) Nil)) ∷ (Data (Number (pos 64)) (Global name_x) (Of2 binary.Cons (Of unary.Vi (Number (pos 3))) Nil)) ∷ []) }); post = (record { opened = (sort.List ∷ []); facts = ([]); locals = []; items = ((Data (Number (pos 64)) (Global name_g) (Var 1 sort.List)) ∷ (Data (Number (pos 64)) (Global name_x) (Var 1 sort.List)) ∷ []) }) }) ∷ []) }) (record { is_void = false; name = name_main; params = ([]); vars = []; pre = (record { opened = []; facts = ([]); locals = []; items = ((Data (Number (pos 64)) (Global name_g) (Of2 binary.Cons (Of unary.Vi (Number (pos 3))) Nil)) ∷ (Data (Number (pos 64)) (Global name_x) (Of2 binary.Cons (Of unary.Vi (Number (pos 3))) Nil)) ∷ []) }); post = (record { opened = (sort.List ∷ []); facts = ([]); locals = []; items = ((Data (Number (pos 64)) (Global name_g) (Var 1 sort.List)) ∷ (Data (Number (pos 64)) (Global name_x) (Var 1 sort.List)) ∷ []) }) }) (record { temps = (name_s ∷ name_t ∷ name_i ∷ name_x1 ∷ name_d0 ∷ name_p1 ∷ name_q1 ∷ []); body = (c.Then (c.Set 0 (c.Const 3)) (c.Then (c.Set 1 (c.Const 0)) (c.Then (c.Set 2 (c.Const 0)) (c.Then (c.Loop (c.Then (c.If (c.Nonzero kind.Signed (c.Binary two.Lt kind.Signed (c.Temp 2) (c.Const 3))) (c.Then (c.Set 4 (c.Const 1)) (c.Then (c.Set 2 (c.Binary two.Add kind.Signed (c.Temp 2) (c.Const 1))) (c.Then c.Skip c.End))) (c.Then c.Break c.End)) c.End)) (c.Then (c.Return (Some (c.Temp 0))) c.End))))) }) (s.Then 1 (s.Set ([]) ([])) s.NoBlock (s.Then 2 (s.Set ([]) ([])) s.NoBlock (s.Then 3 (s.Set ([]) ([])) s.NoBlock (s.Then 4 (s.While (record { opened = (sort.Int ∷ []); facts = ((Rel relation.Le (Number (pos 0)) (Var 0 sort.Int)) ∷ (Rel relation.Le (Var 0 sort.Int) (Number (pos 3))) ∷ []); locals = ((name_s, (Of unary.Vi (Number (pos 3)))) ∷ (name_t, (Of unary.Vi (Number (pos 0)))) ∷ (name_i, (Of unary.Vi (Var 0 sort.Int))) ∷ []); items = ((Data (Number (pos 64)) (Global name_g) (Of2 binary.Cons (Of unary.Vi (Number (pos 3))) Nil)) ∷ (Data (Number (pos 64)) (Global name_x) (Of2 binary.Cons (Of unary.Vi (Number (pos 3))) Nil)) ∷ []) }) (record { opened = (sort.Int ∷ []); facts = ((Rel relation.Le (Number (pos 0)) (Var 0 sort.Int)) ∷ (Rel relation.Le (Var 0 sort.Int) (Number (pos 3))) ∷ (Rel relation.Le (Number (pos 3)) (Var 0 sort.Int)) ∷ []); locals = ((name_s, (Of unary.Vi (Number (pos 3)))) ∷ (name_t, (Of unary.Vi (Number (pos 0)))) ∷ (name_i, (Of unary.Vi (Var 0 sort.Int))) ∷ []); items = ((Data (Number (pos 64)) (Global name_g) (Of2 binary.Cons (Of unary.Vi (Number (pos 3))) Nil)) ∷ (Data (Number (pos 64)) (Global name_x) (Of2 binary.Cons (Of unary.Vi (Number (pos 3))) Nil)) ∷ []) }) (name_k2 ∷ []) ([]) (name_k1 ∷ [])) (s.WithBlock (s.Then 5 (s.Meet ((Number (pos 0)) ∷ []) ([])) s.NoBlock s.End) (s.WithBlock (s.Then 6 (s.If ([]) ((record { lines = ((line.Comb (((pos 1), 0) ∷ ((pos 1), 2) ∷ [])) ∷ []) }) ∷ (record { lines = ((line.Comb (((pos 1), 1) ∷ ((pos 1), 2) ∷ [])) ∷ []) }) ∷ []) ([]) ([])) (s.WithBlock (s.Then 7 (s.Set ([]) ([])) s.NoBlock (s.Then 8 (s.Law name_ptr_null ((Of unary.Vi (Number (pos 0))) ∷ []) ([])) s.NoBlock (s.Then 9 s.Skip s.NoBlock (s.Then 10 (s.Fall ((Of2 binary.Add (Named name_k1) (Number (pos 1))) ∷ []) ((record { lines = ((line.Comb (((pos 1), 0) ∷ ((pos 1), 3) ∷ [])) ∷ []) }) ∷ [])) s.NoBlock s.End)))) (s.WithBlock (s.Then 11 (s.Break ((Named name_k1) ∷ []) ([])) s.NoBlock s.End) s.NoBlock)) s.End) s.NoBlock)) (s.Then 12 (s.Return ((Of2 binary.Cons (Of unary.Vi (Number (pos 3))) Nil) ∷ []) ([]) ([])) s.NoBlock s.End))))) ≡ (RefusedAt 8 26 3)
unfolding computing
random_367 = refl

random_368 : body_verdict (record { predicates = ([]); specs = ((record { is_void = false; name = name_main; params = ([]); vars = []; pre = (record { opened = []; facts = ([]); locals = []; items = ([]) }); post = (record { opened = []; facts = ((Rel relation.Eq (Var 0 sort.Val) (Of unary.Vi (Number (pos 2)))) ∷ []); locals = []; items = ([]) }) }) ∷ []) }) (record { is_void = false; name = name_main; params = ([]); vars = []; pre = (record { opened = []; facts = ([]); locals = []; items = ([]) }); post = (record { opened = []; facts = ((Rel relation.Eq (Var 0 sort.Val) (Of unary.Vi (Number (pos 2)))) ∷ []); locals = []; items = ([]) }) }) (record { temps = (name_s ∷ name_t ∷ name_i ∷ name_x1 ∷ name_d0 ∷ name_p1 ∷ name_q1 ∷ []); body = (c.Then (c.Set 0 (c.Const 2)) (c.Then (c.Set 1 (c.Const 1)) (c.Then (c.Set 0 (c.Binary two.Add kind.Signed (c.Temp 1) (c.Const 1))) (c.Then (c.Set 0 (c.Const 3)) (c.Then (c.Set 3 (c.Const 7)) (c.Then (c.Return (Some (c.Const 2))) c.End)))))) }) (s.Then 1 (s.Set ([]) ([])) s.NoBlock (s.Then 2 (s.Set ([]) ([])) s.NoBlock (s.Then 3 (s.Set ([]) ([])) s.NoBlock (s.Then 4 (s.Set ([]) ([])) s.NoBlock (s.Then 5 (s.Set ([]) ([])) s.NoBlock (s.Then 6 (s.Return ([]) ([]) ([])) s.NoBlock s.End)))))) ≡ Accepted
unfolding computing
random_368 = refl

random_369 : body_verdict (record { predicates = ([]); specs = ((record { is_void = false; name = name_main; params = ([]); vars = []; pre = (record { opened = []; facts = ([]); locals = []; items = ([]) }); post = (record { opened = []; facts = ((Rel relation.Eq (Var 0 sort.Val) (Of unary.Vi (Number (pos 2)))) ∷ []); locals = []; items = ([]) }) }) ∷ []) }) (record { is_void = false; name = name_main; params = ([]); vars = []; pre = (record { opened = []; facts = ([]); locals = []; items = ([]) }); post = (record { opened = []; facts = ((Rel relation.Eq (Var 0 sort.Val) (Of unary.Vi (Number (pos 2)))) ∷ []); locals = []; items = ([]) }) }) (record { temps = (name_s ∷ name_t ∷ name_i ∷ name_x1 ∷ name_d0 ∷ name_p1 ∷ name_q1 ∷ []); body = (c.Then (c.Set 0 (c.Const 2)) (c.Then (c.Set 1 (c.Const 1)) (c.Then (c.Set 0 (c.Binary two.Add kind.Signed (c.Temp 1) (c.Const 1))) (c.Then (c.Set 0 (c.Const 3)) (c.Then (c.Set 3 (c.Const 7)) (c.Then (c.Return (Some (c.Const 2))) c.End)))))) }) (s.Then 1 (s.Set ([]) ([])) s.NoBlock (s.Then 2 (s.Set ([]) ([])) s.NoBlock (s.Then 3 (s.Set ([]) ([])) s.NoBlock (s.Then 4 (s.Set ([]) ([])) s.NoBlock (s.Then 5 (s.Return ([]) ([]) ([])) s.NoBlock s.End))))) ≡ (RefusedAt 5 9 1)
unfolding computing
random_369 = refl

random_370 : body_verdict (record { predicates = ([]); specs = ((record { is_void = false; name = name_main; params = ([]); vars = []; pre = (record { opened = []; facts = ([]); locals = []; items = ([]) }); post = (record { opened = []; facts = ((Rel relation.Eq (Var 0 sort.Val) (Of unary.Vi (Number (pos 2)))) ∷ []); locals = []; items = ([]) }) }) ∷ []) }) (record { is_void = false; name = name_main; params = ([]); vars = []; pre = (record { opened = []; facts = ([]); locals = []; items = ([]) }); post = (record { opened = []; facts = ((Rel relation.Eq (Var 0 sort.Val) (Of unary.Vi (Number (pos 2)))) ∷ []); locals = []; items = ([]) }) }) (record { temps = (name_s ∷ name_t ∷ name_i ∷ name_x1 ∷ name_d0 ∷ name_p1 ∷ name_q1 ∷ []); body = (c.Then (c.Set 0 (c.Const 2)) (c.Then (c.Set 1 (c.Const 1)) (c.Then (c.Set 0 (c.Binary two.Add kind.Signed (c.Temp 1) (c.Const 1))) (c.Then (c.Set 0 (c.Const 3)) (c.Then (c.Set 3 (c.Const 7)) (c.Then (c.Return (Some (c.Const 2))) c.End)))))) }) (s.Then 1 (s.Set ([]) ([])) s.NoBlock (s.Then 2 (s.Set ([]) ([])) s.NoBlock (s.Then 3 (s.Set ([]) ([])) s.NoBlock (s.Then 4 (s.Set ([]) ([])) s.NoBlock (s.Then 5 (s.Set ([]) ([])) s.NoBlock (s.Then 6 (s.Set ([]) ([])) s.NoBlock (s.Then 7 (s.Return ([]) ([]) ([])) s.NoBlock s.End))))))) ≡ (RefusedAt 6 2 1)
unfolding computing
random_370 = refl

random_371 : body_verdict (record { predicates = ([]); specs = ((record { is_void = false; name = name_main; params = ([]); vars = []; pre = (record { opened = []; facts = ([]); locals = []; items = ([]) }); post = (record { opened = []; facts = ((Rel relation.Eq (Var 0 sort.Val) (Of unary.Vi (Number (pos 2)))) ∷ []); locals = []; items = ([]) }) }) ∷ []) }) (record { is_void = false; name = name_main; params = ([]); vars = []; pre = (record { opened = []; facts = ([]); locals = []; items = ([]) }); post = (record { opened = []; facts = ((Rel relation.Eq (Var 0 sort.Val) (Of unary.Vi (Number (pos 2)))) ∷ []); locals = []; items = ([]) }) }) (record { temps = (name_s ∷ name_t ∷ name_i ∷ name_x1 ∷ name_d0 ∷ name_p1 ∷ name_q1 ∷ []); body = (c.Then (c.Set 0 (c.Const 2)) (c.Then (c.Set 1 (c.Const 1)) (c.Then (c.Set 0 (c.Binary two.Add kind.Signed (c.Temp 1) (c.Const 1))) (c.Then (c.Set 0 (c.Const 3)) (c.Then (c.Set 3 (c.Const 7)) (c.Then (c.Return (Some (c.Const 2))) c.End)))))) }) (s.Then 1 (s.Set ([]) ([])) s.NoBlock (s.Then 2 (s.Set ([]) ([])) s.NoBlock (s.Then 3 (s.Set ([]) ([])) s.NoBlock (s.Then 4 (s.Set ([]) ([])) s.NoBlock (s.Then 5 (s.Set ([]) ([])) s.NoBlock (s.Then 6 (s.Return ([]) ([]) ([])) s.NoBlock (s.Then 7 (s.Return ([]) ([]) ([])) s.NoBlock s.End))))))) ≡ (RefusedAt 7 0 11)
unfolding computing
random_371 = refl

random_372 : body_verdict (record { predicates = ([]); specs = ((record { is_void = false; name = name_main; params = ([]); vars = []; pre = (record { opened = []; facts = ([]); locals = []; items = ([]) }); post = (record { opened = []; facts = ((Rel relation.Eq (Var 0 sort.Val) (Of unary.Vi (Number (pos 2)))) ∷ []); locals = []; items = ([]) }) }) ∷ []) }) (record { is_void = false; name = name_main; params = ([]); vars = []; pre = (record { opened = []; facts = ([]); locals = []; items = ([]) }); post = (record { opened = []; facts = ((Rel relation.Eq (Var 0 sort.Val) (Of unary.Vi (Number (pos 2)))) ∷ []); locals = []; items = ([]) }) }) (record { temps = (name_s ∷ name_t ∷ name_i ∷ name_x1 ∷ name_d0 ∷ name_p1 ∷ name_q1 ∷ []); body = (c.Then (c.Set 0 (c.Const 2)) (c.Then (c.Set 1 (c.Const 1)) (c.Then (c.Set 0 (c.Binary two.Add kind.Signed (c.Temp 1) (c.Const 1))) (c.Then (c.Set 0 (c.Const 3)) (c.Then (c.Set 3 (c.Const 7)) (c.Then (c.Return (Some (c.Const 2))) c.End)))))) }) (s.Then 1 (s.Set ([]) ([])) s.NoBlock (s.Then 2 (s.Set ([]) ([])) s.NoBlock (s.Then 3 (s.Set ([]) ([])) s.NoBlock (s.Then 4 (s.Set ([]) ([])) s.NoBlock (s.Then 5 (s.Set ([]) ([])) s.NoBlock (s.Then 6 (s.Pose (record { opened = []; facts = ([]); locals = []; items = ((Pred (record { name = name_zz; args = ((Number (pos 0)) ∷ []) })) ∷ []) }) ([]) ([])) (s.WithBlock s.End s.NoBlock) s.End)))))) ≡ (RefusedAt 6 12 7)
unfolding computing
random_372 = refl

random_373 : body_verdict (record { predicates = ([]); specs = ((record { is_void = false; name = name_f; params = (name_n0 ∷ []); vars = ((name_a0, sort.Int) ∷ []); pre = (record { opened = []; facts = ((Rel relation.Le (Number (pos 1)) (Var 0 sort.Int)) ∷ (Rel relation.Le (Var 0 sort.Int) (Number (pos 100))) ∷ []); locals = ((name_n0, (Of unary.Vi (Var 0 sort.Int))) ∷ []); items = ([]) }); post = (record { opened = []; facts = ((Rel relation.Eq (Var 1 sort.Val) (Of unary.Vi (Number (pos 0)))) ∷ []); locals = []; items = ([]) }) }) ∷ (record { is_void = false; name = name_main; params = ([]); vars = []; pre = (record { opened = []; facts = ([]); locals = []; items = ([]) }); post = (record { opened = []; facts = ((Rel relation.Eq (Var 0 sort.Val) (Of unary.Vi (Number (pos 0)))) ∷ []); locals = []; items = ([]) }) }) ∷ []) }) (record { is_void = false; name = name_f; params = (name_n0 ∷ []); vars = ((name_a0, sort.Int) ∷ []); pre = (record { opened = []; facts = ((Rel relation.Le (Number (pos 1)) (Var 0 sort.Int)) ∷ (Rel relation.Le (Var 0 sort.Int) (Number (pos 100))) ∷ []); locals = ((name_n0, (Of unary.Vi (Var 0 sort.Int))) ∷ []); items = ([]) }); post = (record { opened = []; facts = ((Rel relation.Eq (Var 1 sort.Val) (Of unary.Vi (Number (pos 0)))) ∷ []); locals = []; items = ([]) }) }) (record { temps = (name_n0 ∷ name_s ∷ name_t ∷ name_i ∷ name_x1 ∷ name_d0 ∷ name_p1 ∷ name_q1 ∷ []); body = (c.Then (c.Set 1 (c.Const 1)) (c.Then (c.Set 2 (c.Const 1)) (c.Then (c.Set 1 (c.Binary two.Div kind.Signed (c.Const 3) (c.Const 2))) (c.Then (c.Set 1 (c.Binary two.Mul kind.Signed (c.Const 3) (c.Const 2))) (c.Then (c.Return (Some (c.Const 0))) c.End))))) }) (s.Then 1 (s.Set ([]) ([])) s.NoBlock (s.Then 2 (s.Set ([]) ([])) s.NoBlock (s.Then 3 (s.Set ([]) ([])) s.NoBlock (s.Then 4 (s.Set ([]) ([])) s.NoBlock (s.Then 5 (s.Return ([]) ([]) ([])) s.NoBlock s.End))))) ≡ Accepted
unfolding computing
random_373 = refl

random_374 : body_verdict (record { predicates = ([]); specs = ((record { is_void = false; name = name_f; params = (name_n0 ∷ []); vars = ((name_a0, sort.Int) ∷ []); pre = (record { opened = []; facts = ((Rel relation.Le (Number (pos 1)) (Var 0 sort.Int)) ∷ (Rel relation.Le (Var 0 sort.Int) (Number (pos 100))) ∷ []); locals = ((name_n0, (Of unary.Vi (Var 0 sort.Int))) ∷ []); items = ([]) }); post = (record { opened = []; facts = ((Rel relation.Eq (Var 1 sort.Val) (Of unary.Vi (Number (pos 0)))) ∷ []); locals = []; items = ([]) }) }) ∷ (record { is_void = false; name = name_main; params = ([]); vars = []; pre = (record { opened = []; facts = ([]); locals = []; items = ([]) }); post = (record { opened = []; facts = ((Rel relation.Eq (Var 0 sort.Val) (Of unary.Vi (Number (pos 0)))) ∷ []); locals = []; items = ([]) }) }) ∷ []) }) (record { is_void = false; name = name_main; params = ([]); vars = []; pre = (record { opened = []; facts = ([]); locals = []; items = ([]) }); post = (record { opened = []; facts = ((Rel relation.Eq (Var 0 sort.Val) (Of unary.Vi (Number (pos 0)))) ∷ []); locals = []; items = ([]) }) }) (record { temps = ([]); body = (c.Then (c.Return (Some (c.Const 0))) c.End) }) (s.Then 1 (s.Return ([]) ([]) ([])) s.NoBlock s.End) ≡ Accepted
unfolding computing
random_374 = refl

random_375 : body_verdict (record { predicates = ([]); specs = ((record { is_void = false; name = name_f; params = (name_n0 ∷ []); vars = ((name_a0, sort.Int) ∷ []); pre = (record { opened = []; facts = ((Rel relation.Le (Number (pos 1)) (Var 0 sort.Int)) ∷ (Rel relation.Le (Var 0 sort.Int) (Number (pos 100))) ∷ []); locals = ((name_n0, (Of unary.Vi (Var 0 sort.Int))) ∷ []); items = ([]) }); post = (record { opened = []; facts = ((Rel relation.Eq (Var 1 sort.Val) (Of unary.Vi (Number (pos 0)))) ∷ []); locals = []; items = ([]) }) }) ∷ (record { is_void = false; name = name_main; params = ([]); vars = []; pre = (record { opened = []; facts = ([]); locals = []; items = ([]) }); post = (record { opened = []; facts = ((Rel relation.Eq (Var 0 sort.Val) (Of unary.Vi (Number (pos 0)))) ∷ []); locals = []; items = ([]) }) }) ∷ []) }) (record { is_void = false; name = name_f; params = (name_n0 ∷ []); vars = ((name_a0, sort.Int) ∷ []); pre = (record { opened = []; facts = ((Rel relation.Le (Number (pos 1)) (Var 0 sort.Int)) ∷ (Rel relation.Le (Var 0 sort.Int) (Number (pos 100))) ∷ []); locals = ((name_n0, (Of unary.Vi (Var 0 sort.Int))) ∷ []); items = ([]) }); post = (record { opened = []; facts = ((Rel relation.Eq (Var 1 sort.Val) (Of unary.Vi (Number (pos 0)))) ∷ []); locals = []; items = ([]) }) }) (record { temps = (name_n0 ∷ name_s ∷ name_t ∷ name_i ∷ name_x1 ∷ name_d0 ∷ name_p1 ∷ name_q1 ∷ []); body = (c.Then (c.Set 1 (c.Const 1)) (c.Then (c.Set 2 (c.Const 1)) (c.Then (c.Set 1 (c.Binary two.Div kind.Signed (c.Const 3) (c.Const 2))) (c.Then (c.Set 1 (c.Binary two.Mul kind.Signed (c.Const 3) (c.Const 2))) (c.Then (c.Return (Some (c.Const 0))) c.End))))) }) (s.Then 1 (s.Set ([]) ([])) s.NoBlock (s.Then 2 (s.Set ([]) ([])) s.NoBlock (s.Then 3 s.Skip s.NoBlock (s.Then 4 (s.Set ([]) ([])) s.NoBlock (s.Then 5 (s.Set ([]) ([])) s.NoBlock (s.Then 6 (s.Return (Nil ∷ []) ([]) ([])) s.NoBlock s.End)))))) ≡ (RefusedAt 3 1 1)
unfolding computing
random_375 = refl

random_376 : body_verdict (record { predicates = ([]); specs = ((record { is_void = false; name = name_f; params = (name_n0 ∷ []); vars = ((name_a0, sort.Int) ∷ []); pre = (record { opened = []; facts = ((Rel relation.Le (Number (pos 1)) (Var 0 sort.Int)) ∷ (Rel relation.Le (Var 0 sort.Int) (Number (pos 100))) ∷ []); locals = ((name_n0, (Of unary.Vi (Var 0 sort.Int))) ∷ []); items = ([]) }); post = (record { opened = []; facts = ((Rel relation.Eq (Var 1 sort.Val) (Of unary.Vi (Number (pos 0)))) ∷ []); locals = []; items = ([]) }) }) ∷ (record { is_void = false; name = name_main; params = ([]); vars = []; pre = (record { opened = []; facts = ([]); locals = []; items = ([]) }); post = (record { opened = []; facts = ((Rel relation.Eq (Var 0 sort.Val) (Of unary.Vi (Number (pos 0)))) ∷ []); locals = []; items = ([]) }) }) ∷ []) }) (record { is_void = false; name = name_f; params = (name_n0 ∷ []); vars = ((name_a0, sort.Int) ∷ []); pre = (record { opened = []; facts = ((Rel relation.Le (Number (pos 1)) (Var 0 sort.Int)) ∷ (Rel relation.Le (Var 0 sort.Int) (Number (pos 100))) ∷ []); locals = ((name_n0, (Of unary.Vi (Var 0 sort.Int))) ∷ []); items = ([]) }); post = (record { opened = []; facts = ((Rel relation.Eq (Var 1 sort.Val) (Of unary.Vi (Number (pos 0)))) ∷ []); locals = []; items = ([]) }) }) (record { temps = (name_n0 ∷ name_s ∷ name_t ∷ name_i ∷ name_x1 ∷ name_d0 ∷ name_p1 ∷ name_q1 ∷ []); body = (c.Then (c.Set 1 (c.Const 1)) (c.Then (c.Set 2 (c.Const 1)) (c.Then (c.Set 1 (c.Binary two.Div kind.Signed (c.Const 3) (c.Const 2))) (c.Then (c.Set 1 (c.Binary two.Mul kind.Signed (c.Const 3) (c.Const 2))) (c.Then (c.Return (Some (c.Const 0))) c.End))))) }) (s.Then 1 (s.Set ([]) ([])) s.NoBlock (s.Then 2 (s.Set ([]) ([])) s.NoBlock (s.Then 3 (s.Set ([]) ([])) s.NoBlock (s.Then 4 (s.Return ([]) ([]) ([])) s.NoBlock s.End)))) ≡ (RefusedAt 4 9 1)
unfolding computing
random_376 = refl

random_377 : body_verdict (record { predicates = ([]); specs = ((record { is_void = false; name = name_f; params = (name_n0 ∷ []); vars = ((name_a0, sort.Int) ∷ []); pre = (record { opened = []; facts = ((Rel relation.Le (Number (pos 1)) (Var 0 sort.Int)) ∷ (Rel relation.Le (Var 0 sort.Int) (Number (pos 100))) ∷ []); locals = ((name_n0, (Of unary.Vi (Var 0 sort.Int))) ∷ []); items = ([]) }); post = (record { opened = []; facts = ((Rel relation.Eq (Var 1 sort.Val) (Of unary.Vi (Number (pos 0)))) ∷ []); locals = []; items = ([]) }) }) ∷ (record { is_void = false; name = name_main; params = ([]); vars = []; pre = (record { opened = []; facts = ([]); locals = []; items = ([]) }); post = (record { opened = []; facts = ((Rel relation.Eq (Var 0 sort.Val) (Of unary.Vi (Number (pos 0)))) ∷ []); locals = []; items = ([]) }) }) ∷ []) }) (record { is_void = false; name = name_f; params = (name_n0 ∷ []); vars = ((name_a0, sort.Int) ∷ []); pre = (record { opened = []; facts = ((Rel relation.Le (Number (pos 1)) (Var 0 sort.Int)) ∷ (Rel relation.Le (Var 0 sort.Int) (Number (pos 100))) ∷ []); locals = ((name_n0, (Of unary.Vi (Var 0 sort.Int))) ∷ []); items = ([]) }); post = (record { opened = []; facts = ((Rel relation.Eq (Var 1 sort.Val) (Of unary.Vi (Number (pos 0)))) ∷ []); locals = []; items = ([]) }) }) (record { temps = (name_n0 ∷ name_s ∷ name_t ∷ name_i ∷ name_x1 ∷ name_d0 ∷ name_p1 ∷ name_q1 ∷ []); body = (c.Then (c.Set 1 (c.Const 1)) (c.Then (c.Set 2 (c.Const 1)) (c.Then (c.Set 1 (c.Binary two.Div kind.Signed (c.Const 3) (c.Const 2))) (c.Then (c.Set 1 (c.Binary two.Mul kind.Signed (c.Const 3) (c.Const 2))) (c.Then (c.Return (Some (c.Const 0))) c.End))))) }) (s.Then 1 (s.Set ([]) ([])) s.NoBlock (s.Then 2 (s.Set ([]) ([])) s.NoBlock (s.Then 3 (s.Set ([]) ([])) s.NoBlock (s.Then 4 (s.Naming name_a0 (Number (pos 1))) s.NoBlock (s.Then 5 (s.Set ([]) ([])) s.NoBlock (s.Then 6 (s.Return ([]) ([]) ([])) s.NoBlock s.End)))))) ≡ (RefusedAt 4 38 6)
unfolding computing
random_377 = refl

random_378 : body_verdict (record { predicates = ([]); specs = ((record { is_void = false; name = name_f; params = (name_n0 ∷ []); vars = ((name_a0, sort.Int) ∷ []); pre = (record { opened = []; facts = ((Rel relation.Le (Number (pos 1)) (Var 0 sort.Int)) ∷ (Rel relation.Le (Var 0 sort.Int) (Number (pos 100))) ∷ []); locals = ((name_n0, (Of unary.Vi (Var 0 sort.Int))) ∷ []); items = ([]) }); post = (record { opened = []; facts = ((Rel relation.Eq (Var 1 sort.Val) (Of unary.Vi (Number (pos 0)))) ∷ []); locals = []; items = ([]) }) }) ∷ (record { is_void = false; name = name_main; params = ([]); vars = []; pre = (record { opened = []; facts = ([]); locals = []; items = ([]) }); post = (record { opened = []; facts = ((Rel relation.Eq (Var 0 sort.Val) (Of unary.Vi (Number (pos 0)))) ∷ []); locals = []; items = ([]) }) }) ∷ []) }) (record { is_void = false; name = name_f; params = (name_n0 ∷ []); vars = ((name_a0, sort.Int) ∷ []); pre = (record { opened = []; facts = ((Rel relation.Le (Number (pos 1)) (Var 0 sort.Int)) ∷ (Rel relation.Le (Var 0 sort.Int) (Number (pos 100))) ∷ []); locals = ((name_n0, (Of unary.Vi (Var 0 sort.Int))) ∷ []); items = ([]) }); post = (record { opened = []; facts = ((Rel relation.Eq (Var 1 sort.Val) (Of unary.Vi (Number (pos 0)))) ∷ []); locals = []; items = ([]) }) }) (record { temps = (name_n0 ∷ name_s ∷ name_t ∷ name_i ∷ name_x1 ∷ name_d0 ∷ name_p1 ∷ name_q1 ∷ []); body = (c.Then (c.Set 1 (c.Const 1)) (c.Then (c.Set 2 (c.Const 1)) (c.Then (c.Set 1 (c.Binary two.Div kind.Signed (c.Const 3) (c.Const 2))) (c.Then (c.Set 1 (c.Binary two.Mul kind.Signed (c.Const 3) (c.Const 2))) (c.Then (c.Return (Some (c.Const 0))) c.End))))) }) (s.Then 1 (s.Set ([]) ([])) s.NoBlock (s.Then 2 (s.FreeLock 0 1 ([]) ([])) s.NoBlock (s.Then 3 (s.Set ([]) ([])) s.NoBlock (s.Then 4 (s.Set ([]) ([])) s.NoBlock (s.Then 5 (s.Return ([]) ([]) ([])) s.NoBlock s.End))))) ≡ (RefusedAt 2 19 1)
unfolding computing
random_378 = refl

random_379 : body_verdict (record { predicates = ([]); specs = ((record { is_void = false; name = name_f; params = (name_n0 ∷ []); vars = ((name_a0, sort.Int) ∷ []); pre = (record { opened = []; facts = ((Rel relation.Le (Number (pos 1)) (Var 0 sort.Int)) ∷ (Rel relation.Le (Var 0 sort.Int) (Number (pos 100))) ∷ []); locals = ((name_n0, (Of unary.Vi (Var 0 sort.Int))) ∷ []); items = ([]) }); post = (record { opened = []; facts = ((Rel relation.Eq (Var 1 sort.Val) (Of unary.Vi (Number (pos 0)))) ∷ []); locals = []; items = ([]) }) }) ∷ (record { is_void = false; name = name_main; params = ([]); vars = []; pre = (record { opened = []; facts = ([]); locals = []; items = ([]) }); post = (record { opened = []; facts = ((Rel relation.Eq (Var 0 sort.Val) (Of unary.Vi (Number (pos 0)))) ∷ []); locals = []; items = ([]) }) }) ∷ []) }) (record { is_void = false; name = name_f; params = (name_n0 ∷ []); vars = ((name_a0, sort.Int) ∷ []); pre = (record { opened = []; facts = ((Rel relation.Le (Number (pos 1)) (Var 0 sort.Int)) ∷ (Rel relation.Le (Var 0 sort.Int) (Number (pos 100))) ∷ []); locals = ((name_n0, (Of unary.Vi (Var 0 sort.Int))) ∷ []); items = ([]) }); post = (record { opened = []; facts = ((Rel relation.Eq (Var 1 sort.Val) (Of unary.Vi (Number (pos 0)))) ∷ []); locals = []; items = ([]) }) }) (record { temps = (name_n0 ∷ name_s ∷ name_t ∷ name_i ∷ name_x1 ∷ name_d0 ∷ name_p1 ∷ name_q1 ∷ []); body = (c.Then (c.Set 1 (c.Const 1)) (c.Then (c.Set 2 (c.Const 1)) (c.Then (c.Set 1 (c.Binary two.Div kind.Signed (c.Const 3) (c.Const 2))) (c.Then (c.Set 1 (c.Binary two.Mul kind.Signed (c.Const 3) (c.Const 2))) (c.Then (c.Return (Some (c.Const 0))) c.End))))) }) (s.Then 1 (s.Set ([]) ([])) s.NoBlock (s.Then 2 (s.Set ([]) ([])) s.NoBlock (s.Then 3 (s.Set ([]) ([])) s.NoBlock (s.Then 4 (s.Return ([]) ([]) ([])) s.NoBlock (s.Then 5 (s.Set ([]) ([])) s.NoBlock s.End))))) ≡ (RefusedAt 4 9 1)
unfolding computing
random_379 = refl

random_380 : body_verdict (record { predicates = ((record { name = name_E; args = ([]); cases = ((record { opened = []; facts = ([]); locals = []; items = ([]) }) ∷ []) }) ∷ []); specs = ((record { is_void = false; name = name_main; params = ([]); vars = []; pre = (record { opened = []; facts = ([]); locals = []; items = ((Data (Number (pos 64)) (Global name_arr) (Of2 binary.Cons (Of unary.Vi (Number (pos 1))) (Of2 binary.Cons (Of unary.Vi (Number (pos 2))) (Of2 binary.Cons (Of unary.Vi (Number (pos 0))) (Of2 binary.Cons (Of unary.Vi (Number (pos 0))) Nil))))) ∷ []) }); post = (record { opened = []; facts = ((Rel relation.Eq (Var 0 sort.Val) (Of unary.Vi (Number (pos 5)))) ∷ []); locals = []; items = ((Data (Number (pos 64)) (Global name_arr) (Of2 binary.Cons (Of unary.Vi (Number (pos 1))) (Of2 binary.Cons (Of unary.Vi (Number (pos 2))) (Of2 binary.Cons (Of unary.Vi (Number (pos 0))) (Of2 binary.Cons (Of unary.Vi (Number (pos 1))) Nil))))) ∷ []) }) }) ∷ []) }) (record { is_void = false; name = name_main; params = ([]); vars = []; pre = (record { opened = []; facts = ([]); locals = []; items = ((Data (Number (pos 64)) (Global name_arr) (Of2 binary.Cons (Of unary.Vi (Number (pos 1))) (Of2 binary.Cons (Of unary.Vi (Number (pos 2))) (Of2 binary.Cons (Of unary.Vi (Number (pos 0))) (Of2 binary.Cons (Of unary.Vi (Number (pos 0))) Nil))))) ∷ []) }); post = (record { opened = []; facts = ((Rel relation.Eq (Var 0 sort.Val) (Of unary.Vi (Number (pos 5)))) ∷ []); locals = []; items = ((Data (Number (pos 64)) (Global name_arr) (Of2 binary.Cons (Of unary.Vi (Number (pos 1))) (Of2 binary.Cons (Of unary.Vi (Number (pos 2))) (Of2 binary.Cons (Of unary.Vi (Number (pos 0))) (Of2 binary.Cons (Of unary.Vi (Number (pos 1))) Nil))))) ∷ []) }) }) (record { temps = (name_s ∷ name_t ∷ name_i ∷ name_x1 ∷ name_d0 ∷ name_p1 ∷ name_q1 ∷ []); body = (c.Then (c.Set 0 (c.Const 0)) (c.Then (c.Set 1 (c.Const 0)) (c.Then (c.Store (root.Global name_arr 4) (c.Index kind.Signed (c.Const 3) c.Here) (c.Const 1)) (c.Then (c.Set 0 (c.Binary two.Div kind.Signed (c.Temp 0) (c.Const 2))) (c.Then (c.Set 3 (c.Const 7)) (c.Then (c.Return (Some (c.Binary two.Add kind.Signed (c.Const 3) (c.Const 2)))) c.End)))))) }) (s.Then 1 (s.Set ([]) ([])) s.NoBlock (s.Then 2 (s.Cut 0 (Of2 binary.Cons (Of unary.Vi (Number (pos 1))) (Of2 binary.Cons (Of unary.Vi (Number (pos 2))) (Of2 binary.Cons (Of unary.Vi (Number (pos 0))) Nil))) (Of2 binary.Cons (Of unary.Vi (Number (pos 0))) Nil)) s.NoBlock (s.Then 3 (s.Glue 0 1) s.NoBlock (s.Then 4 (s.Law name_rev_rev ((Of2 binary.Cons (Of unary.Vi (Number (pos 1))) (Of2 binary.Cons (Of unary.Vi (Number (pos 2))) (Of2 binary.Cons (Of unary.Vi (Number (pos 0))) (Of2 binary.Cons (Of unary.Vi (Number (pos 0))) Nil)))) ∷ []) ([])) s.NoBlock (s.Then 5 (s.Set ([]) ([])) s.NoBlock (s.Then 6 (s.Store 0 ([]) ([])) s.NoBlock (s.Then 7 (s.Set ([]) ([])) s.NoBlock (s.Then 8 (s.Set ([]) ([])) s.NoBlock (s.Then 9 (s.Return ([]) ([]) ([])) s.NoBlock s.End))))))))) ≡ Accepted
unfolding computing
random_380 = refl

random_381 : body_verdict (record { predicates = ((record { name = name_E; args = ([]); cases = ((record { opened = []; facts = ([]); locals = []; items = ([]) }) ∷ []) }) ∷ []); specs = ((record { is_void = false; name = name_main; params = ([]); vars = []; pre = (record { opened = []; facts = ([]); locals = []; items = ((Data (Number (pos 64)) (Global name_arr) (Of2 binary.Cons (Of unary.Vi (Number (pos 1))) (Of2 binary.Cons (Of unary.Vi (Number (pos 2))) (Of2 binary.Cons (Of unary.Vi (Number (pos 0))) (Of2 binary.Cons (Of unary.Vi (Number (pos 0))) Nil))))) ∷ []) }); post = (record { opened = []; facts = ((Rel relation.Eq (Var 0 sort.Val) (Of unary.Vi (Number (pos 5)))) ∷ []); locals = []; items = ((Data (Number (pos 64)) (Global name_arr) (Of2 binary.Cons (Of unary.Vi (Number (pos 1))) (Of2 binary.Cons (Of unary.Vi (Number (pos 2))) (Of2 binary.Cons (Of unary.Vi (Number (pos 0))) (Of2 binary.Cons (Of unary.Vi (Number (pos 1))) Nil))))) ∷ []) }) }) ∷ []) }) (record { is_void = false; name = name_main; params = ([]); vars = []; pre = (record { opened = []; facts = ([]); locals = []; items = ((Data (Number (pos 64)) (Global name_arr) (Of2 binary.Cons (Of unary.Vi (Number (pos 1))) (Of2 binary.Cons (Of unary.Vi (Number (pos 2))) (Of2 binary.Cons (Of unary.Vi (Number (pos 0))) (Of2 binary.Cons (Of unary.Vi (Number (pos 0))) Nil))))) ∷ []) }); post = (record { opened = []; facts = ((Rel relation.Eq (Var 0 sort.Val) (Of unary.Vi (Number (pos 5)))) ∷ []); locals = []; items = ((Data (Number (pos 64)) (Global name_arr) (Of2 binary.Cons (Of unary.Vi (Number (pos 1))) (Of2 binary.Cons (Of unary.Vi (Number (pos 2))) (Of2 binary.Cons (Of unary.Vi (Number (pos 0))) (Of2 binary.Cons (Of unary.Vi (Number (pos 1))) Nil))))) ∷ []) }) }) (record { temps = (name_s ∷ name_t ∷ name_i ∷ name_x1 ∷ name_d0 ∷ name_p1 ∷ name_q1 ∷ []); body = (c.Then (c.Set 0 (c.Const 0)) (c.Then (c.Set 1 (c.Const 0)) (c.Then (c.Store (root.Global name_arr 4) (c.Index kind.Signed (c.Const 3) c.Here) (c.Const 1)) (c.Then (c.Set 0 (c.Binary two.Div kind.Signed (c.Temp 0) (c.Const 2))) (c.Then (c.Set 3 (c.Const 7)) (c.Then (c.Return (Some (c.Binary two.Add kind.Signed (c.Const 3) (c.Const 2)))) c.End)))))) }) (s.Then 1 (s.Set ([]) ([])) s.NoBlock (s.Then 2 (s.Cut 0 (Of2 binary.Cons (Of unary.Vi (Number (pos 1))) (Of2 binary.Cons (Of unary.Vi (Number (pos 2))) (Of2 binary.Cons (Of unary.Vi (Number (pos 0))) Nil))) (Of2 binary.Cons (Of unary.Vi (Number (pos 0))) Nil)) s.NoBlock (s.Then 3 (s.Glue 0 3) s.NoBlock (s.Then 4 (s.Law name_rev_rev ((Of2 binary.Cons (Of unary.Vi (Number (pos 1))) (Of2 binary.Cons (Of unary.Vi (Number (pos 2))) (Of2 binary.Cons (Of unary.Vi (Number (pos 0))) (Of2 binary.Cons (Of unary.Vi (Number (pos 0))) Nil)))) ∷ []) ([])) s.NoBlock (s.Then 5 (s.Set ([]) ([])) s.NoBlock (s.Then 6 (s.Store 0 ([]) ([])) s.NoBlock (s.Then 7 (s.Set ([]) ([])) s.NoBlock (s.Then 8 (s.Set ([]) ([])) s.NoBlock (s.Then 9 (s.Return ([]) ([]) ([])) s.NoBlock s.End))))))))) ≡ (RefusedAt 3 30 1)
unfolding computing
random_381 = refl

random_382 : body_verdict (record { predicates = ((record { name = name_E; args = ([]); cases = ((record { opened = []; facts = ([]); locals = []; items = ([]) }) ∷ []) }) ∷ []); specs = ((record { is_void = false; name = name_main; params = ([]); vars = []; pre = (record { opened = []; facts = ([]); locals = []; items = ((Data (Number (pos 64)) (Global name_arr) (Of2 binary.Cons (Of unary.Vi (Number (pos 1))) (Of2 binary.Cons (Of unary.Vi (Number (pos 2))) (Of2 binary.Cons (Of unary.Vi (Number (pos 0))) (Of2 binary.Cons (Of unary.Vi (Number (pos 0))) Nil))))) ∷ []) }); post = (record { opened = []; facts = ((Rel relation.Eq (Var 0 sort.Val) (Of unary.Vi (Number (pos 5)))) ∷ []); locals = []; items = ((Data (Number (pos 64)) (Global name_arr) (Of2 binary.Cons (Of unary.Vi (Number (pos 1))) (Of2 binary.Cons (Of unary.Vi (Number (pos 2))) (Of2 binary.Cons (Of unary.Vi (Number (pos 0))) (Of2 binary.Cons (Of unary.Vi (Number (pos 1))) Nil))))) ∷ []) }) }) ∷ []) }) (record { is_void = false; name = name_main; params = ([]); vars = []; pre = (record { opened = []; facts = ([]); locals = []; items = ((Data (Number (pos 64)) (Global name_arr) (Of2 binary.Cons (Of unary.Vi (Number (pos 1))) (Of2 binary.Cons (Of unary.Vi (Number (pos 2))) (Of2 binary.Cons (Of unary.Vi (Number (pos 0))) (Of2 binary.Cons (Of unary.Vi (Number (pos 0))) Nil))))) ∷ []) }); post = (record { opened = []; facts = ((Rel relation.Eq (Var 0 sort.Val) (Of unary.Vi (Number (pos 5)))) ∷ []); locals = []; items = ((Data (Number (pos 64)) (Global name_arr) (Of2 binary.Cons (Of unary.Vi (Number (pos 1))) (Of2 binary.Cons (Of unary.Vi (Number (pos 2))) (Of2 binary.Cons (Of unary.Vi (Number (pos 0))) (Of2 binary.Cons (Of unary.Vi (Number (pos 1))) Nil))))) ∷ []) }) }) (record { temps = (name_s ∷ name_t ∷ name_i ∷ name_x1 ∷ name_d0 ∷ name_p1 ∷ name_q1 ∷ []); body = (c.Then (c.Set 0 (c.Const 0)) (c.Then (c.Set 1 (c.Const 0)) (c.Then (c.Store (root.Global name_arr 4) (c.Index kind.Signed (c.Const 3) c.Here) (c.Const 1)) (c.Then (c.Set 0 (c.Binary two.Div kind.Signed (c.Temp 0) (c.Const 2))) (c.Then (c.Set 3 (c.Const 7)) (c.Then (c.Return (Some (c.Binary two.Add kind.Signed (c.Const 3) (c.Const 2)))) c.End)))))) }) (s.Then 1 (s.Set ([]) ([])) s.NoBlock (s.Then 2 (s.Cut 0 (Of2 binary.Cons (Of unary.Vi (Number (pos 1))) (Of2 binary.Cons (Of unary.Vi (Number (pos 2))) (Of2 binary.Cons (Of unary.Vi (Number (pos 0))) Nil))) (Of2 binary.Cons (Of unary.Vi (Number (pos 0))) Nil)) s.NoBlock (s.Then 3 (s.Glue 0 1) s.NoBlock (s.Then 4 (s.Law name_rev_rev ((Of2 binary.Cons (Of unary.Vi (Number (pos 1))) (Of2 binary.Cons (Of unary.Vi (Number (pos 2))) (Of2 binary.Cons (Of unary.Vi (Number (pos 0))) (Of2 binary.Cons (Of unary.Vi (Number (pos 0))) Nil)))) ∷ []) ([])) s.NoBlock (s.Then 5 (s.Set ([]) ([])) s.NoBlock (s.Then 6 (s.Pose (record { opened = []; facts = ([]); locals = []; items = ((Pred (record { name = name_zz; args = ((Number (pos 0)) ∷ []) })) ∷ []) }) ([]) ([])) (s.WithBlock s.End s.NoBlock) (s.Then 7 (s.Set ([]) ([])) s.NoBlock (s.Then 8 (s.Set ([]) ([])) s.NoBlock (s.Then 9 (s.Return ([]) ([]) ([])) s.NoBlock s.End))))))))) ≡ (RefusedAt 6 12 7)
unfolding computing
random_382 = refl

random_383 : body_verdict (record { predicates = ((record { name = name_E; args = ([]); cases = ((record { opened = []; facts = ([]); locals = []; items = ([]) }) ∷ []) }) ∷ []); specs = ((record { is_void = false; name = name_main; params = ([]); vars = []; pre = (record { opened = []; facts = ([]); locals = []; items = ((Data (Number (pos 64)) (Global name_arr) (Of2 binary.Cons (Of unary.Vi (Number (pos 1))) (Of2 binary.Cons (Of unary.Vi (Number (pos 2))) (Of2 binary.Cons (Of unary.Vi (Number (pos 0))) (Of2 binary.Cons (Of unary.Vi (Number (pos 0))) Nil))))) ∷ []) }); post = (record { opened = []; facts = ((Rel relation.Eq (Var 0 sort.Val) (Of unary.Vi (Number (pos 5)))) ∷ []); locals = []; items = ((Data (Number (pos 64)) (Global name_arr) (Of2 binary.Cons (Of unary.Vi (Number (pos 1))) (Of2 binary.Cons (Of unary.Vi (Number (pos 2))) (Of2 binary.Cons (Of unary.Vi (Number (pos 0))) (Of2 binary.Cons (Of unary.Vi (Number (pos 1))) Nil))))) ∷ []) }) }) ∷ []) }) (record { is_void = false; name = name_main; params = ([]); vars = []; pre = (record { opened = []; facts = ([]); locals = []; items = ((Data (Number (pos 64)) (Global name_arr) (Of2 binary.Cons (Of unary.Vi (Number (pos 1))) (Of2 binary.Cons (Of unary.Vi (Number (pos 2))) (Of2 binary.Cons (Of unary.Vi (Number (pos 0))) (Of2 binary.Cons (Of unary.Vi (Number (pos 0))) Nil))))) ∷ []) }); post = (record { opened = []; facts = ((Rel relation.Eq (Var 0 sort.Val) (Of unary.Vi (Number (pos 5)))) ∷ []); locals = []; items = ((Data (Number (pos 64)) (Global name_arr) (Of2 binary.Cons (Of unary.Vi (Number (pos 1))) (Of2 binary.Cons (Of unary.Vi (Number (pos 2))) (Of2 binary.Cons (Of unary.Vi (Number (pos 0))) (Of2 binary.Cons (Of unary.Vi (Number (pos 1))) Nil))))) ∷ []) }) }) (record { temps = (name_s ∷ name_t ∷ name_i ∷ name_x1 ∷ name_d0 ∷ name_p1 ∷ name_q1 ∷ []); body = (c.Then (c.Set 0 (c.Const 0)) (c.Then (c.Set 1 (c.Const 0)) (c.Then (c.Store (root.Global name_arr 4) (c.Index kind.Signed (c.Const 3) c.Here) (c.Const 1)) (c.Then (c.Set 0 (c.Binary two.Div kind.Signed (c.Temp 0) (c.Const 2))) (c.Then (c.Set 3 (c.Const 7)) (c.Then (c.Return (Some (c.Binary two.Add kind.Signed (c.Const 2147483647) (c.Const 2)))) c.End)))))) }) (s.Then 1 (s.Set ([]) ([])) s.NoBlock (s.Then 2 (s.Cut 0 (Of2 binary.Cons (Of unary.Vi (Number (pos 1))) (Of2 binary.Cons (Of unary.Vi (Number (pos 2))) (Of2 binary.Cons (Of unary.Vi (Number (pos 0))) Nil))) (Of2 binary.Cons (Of unary.Vi (Number (pos 0))) Nil)) s.NoBlock (s.Then 3 (s.Glue 0 1) s.NoBlock (s.Then 4 (s.Law name_rev_rev ((Of2 binary.Cons (Of unary.Vi (Number (pos 1))) (Of2 binary.Cons (Of unary.Vi (Number (pos 2))) (Of2 binary.Cons (Of unary.Vi (Number (pos 0))) (Of2 binary.Cons (Of unary.Vi (Number (pos 0))) Nil)))) ∷ []) ([])) s.NoBlock (s.Then 5 (s.Set ([]) ([])) s.NoBlock (s.Then 6 (s.Store 0 ([]) ([])) s.NoBlock (s.Then 7 (s.Set ([]) ([])) s.NoBlock (s.Then 8 (s.Set ([]) ([])) s.NoBlock (s.Then 9 (s.Return ([]) ([]) ([])) s.NoBlock s.End))))))))) ≡ (RefusedAt 9 9 3)
unfolding computing
random_383 = refl

random_384 : body_verdict (record { predicates = ((record { name = name_E; args = ([]); cases = ((record { opened = []; facts = ([]); locals = []; items = ([]) }) ∷ []) }) ∷ []); specs = ((record { is_void = false; name = name_main; params = ([]); vars = []; pre = (record { opened = []; facts = ([]); locals = []; items = ((Data (Number (pos 64)) (Global name_arr) (Of2 binary.Cons (Of unary.Vi (Number (pos 1))) (Of2 binary.Cons (Of unary.Vi (Number (pos 2))) (Of2 binary.Cons (Of unary.Vi (Number (pos 0))) (Of2 binary.Cons (Of unary.Vi (Number (pos 0))) Nil))))) ∷ []) }); post = (record { opened = []; facts = ((Rel relation.Eq (Var 0 sort.Val) (Of unary.Vi (Number (pos 5)))) ∷ []); locals = []; items = ((Data (Number (pos 64)) (Global name_arr) (Of2 binary.Cons (Of unary.Vi (Number (pos 1))) (Of2 binary.Cons (Of unary.Vi (Number (pos 2))) (Of2 binary.Cons (Of unary.Vi (Number (pos 0))) (Of2 binary.Cons (Of unary.Vi (Number (pos 1))) Nil))))) ∷ []) }) }) ∷ []) }) (record { is_void = false; name = name_main; params = ([]); vars = []; pre = (record { opened = []; facts = ([]); locals = []; items = ((Data (Number (pos 64)) (Global name_arr) (Of2 binary.Cons (Of unary.Vi (Number (pos 1))) (Of2 binary.Cons (Of unary.Vi (Number (pos 2))) (Of2 binary.Cons (Of unary.Vi (Number (pos 0))) (Of2 binary.Cons (Of unary.Vi (Number (pos 0))) Nil))))) ∷ []) }); post = (record { opened = []; facts = ((Rel relation.Eq (Var 0 sort.Val) (Of unary.Vi (Number (pos 5)))) ∷ []); locals = []; items = ((Data (Number (pos 64)) (Global name_arr) (Of2 binary.Cons (Of unary.Vi (Number (pos 1))) (Of2 binary.Cons (Of unary.Vi (Number (pos 2))) (Of2 binary.Cons (Of unary.Vi (Number (pos 0))) (Of2 binary.Cons (Of unary.Vi (Number (pos 1))) Nil))))) ∷ []) }) }) (record { temps = (name_s ∷ name_t ∷ name_i ∷ name_x1 ∷ name_d0 ∷ name_p1 ∷ name_q1 ∷ []); body = (c.Then (c.Set 0 (c.Const 0)) (c.Then (c.Set 1 (c.Const 0)) (c.Then (c.Store (root.Global name_arr 4) (c.Index kind.Signed (c.Const 3) c.Here) (c.Const 1)) (c.Then (c.Set 0 (c.Binary two.Div kind.Signed (c.Temp 0) (c.Const 2))) (c.Then (c.Set 3 (c.Const 7)) (c.Then (c.Return (Some (c.Binary two.Add kind.Signed (c.Const 3) (c.Const 2)))) c.End)))))) }) (s.Then 1 (s.Set ([]) ([])) s.NoBlock (s.Then 2 (s.Cut 0 (Of2 binary.Cons (Of unary.Vi (Number (pos 1))) (Of2 binary.Cons (Of unary.Vi (Number (pos 2))) (Of2 binary.Cons (Of unary.Vi (Number (pos 0))) Nil))) (Of2 binary.Cons (Of unary.Vi (Number (pos 0))) Nil)) s.NoBlock (s.Then 3 (s.Glue 0 1) s.NoBlock (s.Then 4 (s.Law name_rev_rev ((Of2 binary.Cons (Of unary.Vi (Number (pos 1))) (Of2 binary.Cons (Of unary.Vi (Number (pos 2))) (Of2 binary.Cons (Of unary.Vi (Number (pos 0))) (Of2 binary.Cons (Of unary.Vi (Number (pos 0))) Nil)))) ∷ []) ([])) s.NoBlock (s.Then 5 (s.Law name_rev_rev ((Of2 binary.Cons (Of unary.Vi (Number (pos 1))) (Of2 binary.Cons (Of unary.Vi (Number (pos 2))) (Of2 binary.Cons (Of unary.Vi (Number (pos 0))) (Of2 binary.Cons (Of unary.Vi (Number (pos 0))) Nil)))) ∷ []) ([])) s.NoBlock (s.Then 6 (s.Set ([]) ([])) s.NoBlock (s.Then 7 (s.Store 0 ([]) ([])) s.NoBlock (s.Then 8 (s.Set ([]) ([])) s.NoBlock (s.Then 9 (s.Set ([]) ([])) s.NoBlock (s.Then 10 (s.Return ([]) ([]) ([])) s.NoBlock s.End)))))))))) ≡ Accepted
unfolding computing
random_384 = refl

random_385 : body_verdict (record { predicates = ((record { name = name_E; args = ([]); cases = ((record { opened = []; facts = ([]); locals = []; items = ([]) }) ∷ []) }) ∷ []); specs = ((record { is_void = false; name = name_main; params = ([]); vars = []; pre = (record { opened = []; facts = ([]); locals = []; items = ((Data (Number (pos 64)) (Global name_arr) (Of2 binary.Cons (Of unary.Vi (Number (pos 1))) (Of2 binary.Cons (Of unary.Vi (Number (pos 2))) (Of2 binary.Cons (Of unary.Vi (Number (pos 0))) (Of2 binary.Cons (Of unary.Vi (Number (pos 0))) Nil))))) ∷ []) }); post = (record { opened = []; facts = ((Rel relation.Eq (Var 0 sort.Val) (Of unary.Vi (Number (pos 5)))) ∷ []); locals = []; items = ((Data (Number (pos 64)) (Global name_arr) (Of2 binary.Cons (Of unary.Vi (Number (pos 1))) (Of2 binary.Cons (Of unary.Vi (Number (pos 2))) (Of2 binary.Cons (Of unary.Vi (Number (pos 0))) (Of2 binary.Cons (Of unary.Vi (Number (pos 1))) Nil))))) ∷ []) }) }) ∷ []) }) (record { is_void = false; name = name_main; params = ([]); vars = []; pre = (record { opened = []; facts = ([]); locals = []; items = ((Data (Number (pos 64)) (Global name_arr) (Of2 binary.Cons (Of unary.Vi (Number (pos 1))) (Of2 binary.Cons (Of unary.Vi (Number (pos 2))) (Of2 binary.Cons (Of unary.Vi (Number (pos 0))) (Of2 binary.Cons (Of unary.Vi (Number (pos 0))) Nil))))) ∷ []) }); post = (record { opened = []; facts = ((Rel relation.Eq (Var 0 sort.Val) (Of unary.Vi (Number (pos 5)))) ∷ []); locals = []; items = ((Data (Number (pos 64)) (Global name_arr) (Of2 binary.Cons (Of unary.Vi (Number (pos 1))) (Of2 binary.Cons (Of unary.Vi (Number (pos 2))) (Of2 binary.Cons (Of unary.Vi (Number (pos 0))) (Of2 binary.Cons (Of unary.Vi (Number (pos 1))) Nil))))) ∷ []) }) }) (record { temps = (name_s ∷ name_t ∷ name_i ∷ name_x1 ∷ name_d0 ∷ name_p1 ∷ name_q1 ∷ []); body = (c.Then (c.Set 0 (c.Const 0)) (c.Then (c.Set 1 (c.Const 0)) (c.Then (c.Store (root.Global name_arr 4) (c.Index kind.Signed (c.Const 3) c.Here) (c.Const 1)) (c.Then (c.Set 0 (c.Binary two.Div kind.Signed (c.Temp 0) (c.Const 2))) (c.Then (c.Set 3 (c.Const 7)) (c.Then (c.Return (Some (c.Binary two.Add kind.Signed (c.Const 3) (c.Const 2)))) c.End)))))) }) (s.Then 1 (s.Set ([]) ([])) s.NoBlock (s.Then 2 (s.Set ([]) ([])) s.NoBlock (s.Then 3 (s.Cut 0 (Of2 binary.Cons (Of unary.Vi (Number (pos 1))) (Of2 binary.Cons (Of unary.Vi (Number (pos 2))) (Of2 binary.Cons (Of unary.Vi (Number (pos 0))) Nil))) (Of2 binary.Cons (Of unary.Vi (Number (pos 0))) Nil)) s.NoBlock (s.Then 4 (s.Glue 0 1) s.NoBlock (s.Then 5 (s.Law name_rev_rev ((Of2 binary.Cons (Of unary.Vi (Number (pos 1))) (Of2 binary.Cons (Of unary.Vi (Number (pos 2))) (Of2 binary.Cons (Of unary.Vi (Number (pos 0))) (Of2 binary.Cons (Of unary.Vi (Number (pos 0))) Nil)))) ∷ []) ([])) s.NoBlock (s.Then 6 (s.Set ([]) ([])) s.NoBlock (s.Then 7 (s.Store 0 ([]) ([])) s.NoBlock (s.Then 8 (s.Set ([]) ([])) s.NoBlock (s.Then 9 (s.Set ([]) ([])) s.NoBlock (s.Then 10 (s.Return ([]) ([]) ([])) s.NoBlock s.End)))))))))) ≡ (RefusedAt 6 2 1)
unfolding computing
random_385 = refl

random_386 : body_verdict (record { predicates = ((record { name = name_E; args = ([]); cases = ((record { opened = []; facts = ([]); locals = []; items = ([]) }) ∷ []) }) ∷ []); specs = ((record { is_void = false; name = name_main; params = ([]); vars = []; pre = (record { opened = []; facts = ([]); locals = []; items = ((Data (Number (pos 64)) (Global name_arr) (Of2 binary.Cons (Of unary.Vi (Number (pos 1))) (Of2 binary.Cons (Of unary.Vi (Number (pos 2))) (Of2 binary.Cons (Of unary.Vi (Number (pos 0))) (Of2 binary.Cons (Of unary.Vi (Number (pos 0))) Nil))))) ∷ []) }); post = (record { opened = []; facts = ((Rel relation.Eq (Var 0 sort.Val) (Of unary.Vi (Number (pos 5)))) ∷ []); locals = []; items = ((Data (Number (pos 64)) (Global name_arr) (Of2 binary.Cons (Of unary.Vi (Number (pos 1))) (Of2 binary.Cons (Of unary.Vi (Number (pos 2))) (Of2 binary.Cons (Of unary.Vi (Number (pos 0))) (Of2 binary.Cons (Of unary.Vi (Number (pos 1))) Nil))))) ∷ []) }) }) ∷ []) }) (record { is_void = false; name = name_main; params = ([]); vars = []; pre = (record { opened = []; facts = ([]); locals = []; items = ((Data (Number (pos 64)) (Global name_arr) (Of2 binary.Cons (Of unary.Vi (Number (pos 1))) (Of2 binary.Cons (Of unary.Vi (Number (pos 2))) (Of2 binary.Cons (Of unary.Vi (Number (pos 0))) (Of2 binary.Cons (Of unary.Vi (Number (pos 0))) Nil))))) ∷ []) }); post = (record { opened = []; facts = ((Rel relation.Eq (Var 0 sort.Val) (Of unary.Vi (Number (pos 5)))) ∷ []); locals = []; items = ((Data (Number (pos 64)) (Global name_arr) (Of2 binary.Cons (Of unary.Vi (Number (pos 1))) (Of2 binary.Cons (Of unary.Vi (Number (pos 2))) (Of2 binary.Cons (Of unary.Vi (Number (pos 0))) (Of2 binary.Cons (Of unary.Vi (Number (pos 1))) Nil))))) ∷ []) }) }) (record { temps = (name_s ∷ name_t ∷ name_i ∷ name_x1 ∷ name_d0 ∷ name_p1 ∷ name_q1 ∷ []); body = (c.Then (c.Set 0 (c.Const 0)) (c.Then (c.Set 1 (c.Const 0)) (c.Then (c.Store (root.Global name_arr 4) (c.Index kind.Signed (c.Const 3) c.Here) (c.Const 1)) (c.Then (c.Set 0 (c.Binary two.Div kind.Signed (c.Temp 0) (c.Const 2))) (c.Then (c.Set 3 (c.Const 7)) (c.Then (c.Return (Some (c.Binary two.Add kind.Signed (c.Const 3) (c.Const 2)))) c.End)))))) }) (s.Then 1 (s.Set ([]) ([])) s.NoBlock (s.Then 2 (s.Cut 0 (Of2 binary.Cons (Of unary.Vi (Number (pos 1))) (Of2 binary.Cons (Of unary.Vi (Number (pos 2))) (Of2 binary.Cons (Of unary.Vi (Number (pos 0))) Nil))) (Of2 binary.Cons (Of unary.Vi (Number (pos 0))) Nil)) s.NoBlock (s.Then 3 (s.Glue 0 1) s.NoBlock (s.Then 4 (s.Law name_rev_rev ((Of2 binary.Cons (Of unary.Vi (Number (pos 1))) (Of2 binary.Cons (Of unary.Vi (Number (pos 2))) (Of2 binary.Cons (Of unary.Vi (Number (pos 0))) (Of2 binary.Cons (Of unary.Vi (Number (pos 0))) Nil)))) ∷ []) ([])) s.NoBlock (s.Then 5 (s.Fall ([]) ([])) s.NoBlock (s.Then 6 (s.Set ([]) ([])) s.NoBlock (s.Then 7 (s.Store 0 ([]) ([])) s.NoBlock (s.Then 8 (s.Set ([]) ([])) s.NoBlock (s.Then 9 (s.Set ([]) ([])) s.NoBlock (s.Then 10 (s.Return ([]) ([]) ([])) s.NoBlock s.End)))))))))) ≡ (RefusedAt 5 10 1)
unfolding computing
random_386 = refl

random_387 : body_verdict (record { predicates = ([]); specs = ((record { is_void = true; name = name_put; params = (name_p ∷ name_k ∷ []); vars = ((name_v, sort.Val) ∷ (name_w, sort.Val) ∷ (name_o, sort.Val) ∷ []); pre = (record { opened = []; facts = ([]); locals = ((name_p, (Var 0 sort.Val)) ∷ (name_k, (Var 1 sort.Val)) ∷ []); items = ((Data (Number (pos 64)) (Var 0 sort.Val) (Of2 binary.Cons (Var 2 sort.Val) Nil)) ∷ []) }); post = (record { opened = []; facts = ([]); locals = []; items = ((Data (Number (pos 64)) (Var 0 sort.Val) (Of2 binary.Cons (Var 1 sort.Val) Nil)) ∷ []) }) }) ∷ (record { is_void = false; name = name_f; params = (name_p00 ∷ []); vars = ((name_v0, sort.Val) ∷ (name_o0, sort.Int) ∷ []); pre = (record { opened = []; facts = ((Rel relation.Le (Number (pos 0)) (Var 1 sort.Int)) ∷ (Rel relation.Le (Var 1 sort.Int) (Number (pos 20))) ∷ []); locals = ((name_p00, (Var 0 sort.Val)) ∷ []); items = ((Data (Number (pos 64)) (Var 0 sort.Val) (Of2 binary.Cons (Of unary.Vi (Var 1 sort.Int)) Nil)) ∷ []) }); post = (record { opened = []; facts = ((Rel relation.Eq (Var 2 sort.Val) (Of unary.Vi (Number (pos 0)))) ∷ []); locals = []; items = ((Data (Number (pos 64)) (Var 0 sort.Val) (Of2 binary.Cons (Of unary.Vi (Number (pos 2))) Nil)) ∷ []) }) }) ∷ (record { is_void = false; name = name_main; params = ([]); vars = []; pre = (record { opened = []; facts = ([]); locals = []; items = ([]) }); post = (record { opened = []; facts = ((Rel relation.Eq (Var 0 sort.Val) (Of unary.Vi (Number (pos 0)))) ∷ []); locals = []; items = ([]) }) }) ∷ []) }) (record { is_void = false; name = name_f; params = (name_p00 ∷ []); vars = ((name_v0, sort.Val) ∷ (name_o0, sort.Int) ∷ []); pre = (record { opened = []; facts = ((Rel relation.Le (Number (pos 0)) (Var 1 sort.Int)) ∷ (Rel relation.Le (Var 1 sort.Int) (Number (pos 20))) ∷ []); locals = ((name_p00, (Var 0 sort.Val)) ∷ []); items = ((Data (Number (pos 64)) (Var 0 sort.Val) (Of2 binary.Cons (Of unary.Vi (Var 1 sort.Int)) Nil)) ∷ []) }); post = (record { opened = []; facts = ((Rel relation.Eq (Var 2 sort.Val) (Of unary.Vi (Number (pos 0)))) ∷ []); locals = []; items = ((Data (Number (pos 64)) (Var 0 sort.Val) (Of2 binary.Cons (Of unary.Vi (Number (pos 2))) Nil)) ∷ []) }) }) (record { temps = (name_p00 ∷ name_s ∷ name_t ∷ name_i ∷ name_x1 ∷ name_d0 ∷ name_p1 ∷ name_q1 ∷ []); body = (c.Then (c.Set 1 (c.Const 0)) (c.Then (c.Set 2 (c.Const 1)) (c.Then (c.Set 2 (c.Const 2)) (c.Then (c.Set 4 (c.Unary one.Invert kind.Unsigned (c.Const 0))) (c.Then (c.Set 1 (c.Const 1)) (c.Then (c.Call None name_put ((c.Temp 0) ∷ (c.Temp 2) ∷ [])) (c.Then (c.Return (Some (c.Const 0))) c.End))))))) }) (s.Then 1 (s.Set ([]) ([])) s.NoBlock (s.Then 2 (s.Set ([]) ([])) s.NoBlock (s.Then 3 (s.Set ([]) ([])) s.NoBlock (s.Then 4 (s.Set ([]) ([])) s.NoBlock (s.Then 5 (s.Set ([]) ([])) s.NoBlock (s.Then 6 (s.Bounds 0 None ([])) s.NoBlock (s.Then 7 (s.Have (Rel relation.Le (Number (pos 64)) (Number (pos 64))) ([])) s.NoBlock (s.Then 8 (s.Call ((Named name_v0) ∷ (Of unary.Vi (Number (pos 2))) ∷ (Of unary.Vi (Named name_o0)) ∷ []) ([]) ([]) ([])) s.NoBlock (s.Then 9 (s.Return ([]) ([]) ([])) s.NoBlock s.End))))))))) ≡ Accepted
unfolding computing
random_387 = refl

random_388 : body_verdict (record { predicates = ([]); specs = ((record { is_void = true; name = name_put; params = (name_p ∷ name_k ∷ []); vars = ((name_v, sort.Val) ∷ (name_w, sort.Val) ∷ (name_o, sort.Val) ∷ []); pre = (record { opened = []; facts = ([]); locals = ((name_p, (Var 0 sort.Val)) ∷ (name_k, (Var 1 sort.Val)) ∷ []); items = ((Data (Number (pos 64)) (Var 0 sort.Val) (Of2 binary.Cons (Var 2 sort.Val) Nil)) ∷ []) }); post = (record { opened = []; facts = ([]); locals = []; items = ((Data (Number (pos 64)) (Var 0 sort.Val) (Of2 binary.Cons (Var 1 sort.Val) Nil)) ∷ []) }) }) ∷ (record { is_void = false; name = name_f; params = (name_p00 ∷ []); vars = ((name_v0, sort.Val) ∷ (name_o0, sort.Int) ∷ []); pre = (record { opened = []; facts = ((Rel relation.Le (Number (pos 0)) (Var 1 sort.Int)) ∷ (Rel relation.Le (Var 1 sort.Int) (Number (pos 20))) ∷ []); locals = ((name_p00, (Var 0 sort.Val)) ∷ []); items = ((Data (Number (pos 64)) (Var 0 sort.Val) (Of2 binary.Cons (Of unary.Vi (Var 1 sort.Int)) Nil)) ∷ []) }); post = (record { opened = []; facts = ((Rel relation.Eq (Var 2 sort.Val) (Of unary.Vi (Number (pos 0)))) ∷ []); locals = []; items = ((Data (Number (pos 64)) (Var 0 sort.Val) (Of2 binary.Cons (Of unary.Vi (Number (pos 2))) Nil)) ∷ []) }) }) ∷ (record { is_void = false; name = name_main; params = ([]); vars = []; pre = (record { opened = []; facts = ([]); locals = []; items = ([]) }); post = (record { opened = []; facts = ((Rel relation.Eq (Var 0 sort.Val) (Of unary.Vi (Number (pos 0)))) ∷ []); locals = []; items = ([]) }) }) ∷ []) }) (record { is_void = true; name = name_put; params = (name_p ∷ name_k ∷ []); vars = ((name_v, sort.Val) ∷ (name_w, sort.Val) ∷ (name_o, sort.Val) ∷ []); pre = (record { opened = []; facts = ([]); locals = ((name_p, (Var 0 sort.Val)) ∷ (name_k, (Var 1 sort.Val)) ∷ []); items = ((Data (Number (pos 64)) (Var 0 sort.Val) (Of2 binary.Cons (Var 2 sort.Val) Nil)) ∷ []) }); post = (record { opened = []; facts = ([]); locals = []; items = ((Data (Number (pos 64)) (Var 0 sort.Val) (Of2 binary.Cons (Var 1 sort.Val) Nil)) ∷ []) }) }) (record { temps = (name_p ∷ name_k ∷ []); body = (c.Then (c.Store (root.Temp 0) c.Here (c.Temp 1)) (c.Then (c.Return None) c.End)) }) (s.Then 1 (s.Store 0 ([]) ([])) s.NoBlock (s.Then 2 (s.Return ([]) ([]) ([])) s.NoBlock s.End)) ≡ Accepted
unfolding computing
random_388 = refl

random_389 : body_verdict (record { predicates = ([]); specs = ((record { is_void = true; name = name_put; params = (name_p ∷ name_k ∷ []); vars = ((name_v, sort.Val) ∷ (name_w, sort.Val) ∷ (name_o, sort.Val) ∷ []); pre = (record { opened = []; facts = ([]); locals = ((name_p, (Var 0 sort.Val)) ∷ (name_k, (Var 1 sort.Val)) ∷ []); items = ((Data (Number (pos 64)) (Var 0 sort.Val) (Of2 binary.Cons (Var 2 sort.Val) Nil)) ∷ []) }); post = (record { opened = []; facts = ([]); locals = []; items = ((Data (Number (pos 64)) (Var 0 sort.Val) (Of2 binary.Cons (Var 1 sort.Val) Nil)) ∷ []) }) }) ∷ (record { is_void = false; name = name_f; params = (name_p00 ∷ []); vars = ((name_v0, sort.Val) ∷ (name_o0, sort.Int) ∷ []); pre = (record { opened = []; facts = ((Rel relation.Le (Number (pos 0)) (Var 1 sort.Int)) ∷ (Rel relation.Le (Var 1 sort.Int) (Number (pos 20))) ∷ []); locals = ((name_p00, (Var 0 sort.Val)) ∷ []); items = ((Data (Number (pos 64)) (Var 0 sort.Val) (Of2 binary.Cons (Of unary.Vi (Var 1 sort.Int)) Nil)) ∷ []) }); post = (record { opened = []; facts = ((Rel relation.Eq (Var 2 sort.Val) (Of unary.Vi (Number (pos 0)))) ∷ []); locals = []; items = ((Data (Number (pos 64)) (Var 0 sort.Val) (Of2 binary.Cons (Of unary.Vi (Number (pos 2))) Nil)) ∷ []) }) }) ∷ (record { is_void = false; name = name_main; params = ([]); vars = []; pre = (record { opened = []; facts = ([]); locals = []; items = ([]) }); post = (record { opened = []; facts = ((Rel relation.Eq (Var 0 sort.Val) (Of unary.Vi (Number (pos 0)))) ∷ []); locals = []; items = ([]) }) }) ∷ []) }) (record { is_void = false; name = name_main; params = ([]); vars = []; pre = (record { opened = []; facts = ([]); locals = []; items = ([]) }); post = (record { opened = []; facts = ((Rel relation.Eq (Var 0 sort.Val) (Of unary.Vi (Number (pos 0)))) ∷ []); locals = []; items = ([]) }) }) (record { temps = ([]); body = (c.Then (c.Return (Some (c.Const 0))) c.End) }) (s.Then 1 (s.Return ([]) ([]) ([])) s.NoBlock s.End) ≡ Accepted
unfolding computing
random_389 = refl

random_390 : body_verdict (record { predicates = ([]); specs = ((record { is_void = true; name = name_put; params = (name_p ∷ name_k ∷ []); vars = ((name_v, sort.Val) ∷ (name_w, sort.Val) ∷ (name_o, sort.Val) ∷ []); pre = (record { opened = []; facts = ([]); locals = ((name_p, (Var 0 sort.Val)) ∷ (name_k, (Var 1 sort.Val)) ∷ []); items = ((Data (Number (pos 64)) (Var 0 sort.Val) (Of2 binary.Cons (Var 2 sort.Val) Nil)) ∷ []) }); post = (record { opened = []; facts = ([]); locals = []; items = ((Data (Number (pos 64)) (Var 0 sort.Val) (Of2 binary.Cons (Var 1 sort.Val) Nil)) ∷ []) }) }) ∷ (record { is_void = false; name = name_f; params = (name_p00 ∷ []); vars = ((name_v0, sort.Val) ∷ (name_o0, sort.Int) ∷ []); pre = (record { opened = []; facts = ((Rel relation.Le (Number (pos 0)) (Var 1 sort.Int)) ∷ (Rel relation.Le (Var 1 sort.Int) (Number (pos 20))) ∷ []); locals = ((name_p00, (Var 0 sort.Val)) ∷ []); items = ((Data (Number (pos 64)) (Var 0 sort.Val) (Of2 binary.Cons (Of unary.Vi (Var 1 sort.Int)) Nil)) ∷ []) }); post = (record { opened = []; facts = ((Rel relation.Eq (Var 2 sort.Val) (Of unary.Vi (Number (pos 0)))) ∷ []); locals = []; items = ((Data (Number (pos 64)) (Var 0 sort.Val) (Of2 binary.Cons (Of unary.Vi (Number (pos 2))) Nil)) ∷ []) }) }) ∷ (record { is_void = false; name = name_main; params = ([]); vars = []; pre = (record { opened = []; facts = ([]); locals = []; items = ([]) }); post = (record { opened = []; facts = ((Rel relation.Eq (Var 0 sort.Val) (Of unary.Vi (Number (pos 0)))) ∷ []); locals = []; items = ([]) }) }) ∷ []) }) (record { is_void = false; name = name_f; params = (name_p00 ∷ []); vars = ((name_v0, sort.Val) ∷ (name_o0, sort.Int) ∷ []); pre = (record { opened = []; facts = ((Rel relation.Le (Number (pos 0)) (Var 1 sort.Int)) ∷ (Rel relation.Le (Var 1 sort.Int) (Number (pos 20))) ∷ []); locals = ((name_p00, (Var 0 sort.Val)) ∷ []); items = ((Data (Number (pos 64)) (Var 0 sort.Val) (Of2 binary.Cons (Of unary.Vi (Var 1 sort.Int)) Nil)) ∷ []) }); post = (record { opened = []; facts = ((Rel relation.Eq (Var 2 sort.Val) (Of unary.Vi (Number (pos 0)))) ∷ []); locals = []; items = ((Data (Number (pos 64)) (Var 0 sort.Val) (Of2 binary.Cons (Of unary.Vi (Number (pos 2))) Nil)) ∷ []) }) }) (record { temps = (name_p00 ∷ name_s ∷ name_t ∷ name_i ∷ name_x1 ∷ name_d0 ∷ name_p1 ∷ name_q1 ∷ []); body = (c.Then (c.Set 1 (c.Const 0)) (c.Then (c.Set 2 (c.Const 1)) (c.Then (c.Set 2 (c.Const 2)) (c.Then (c.Set 4 (c.Unary one.Invert kind.Unsigned (c.Const 0))) (c.Then (c.Set 1 (c.Const 1)) (c.Then (c.Call None name_put ((c.Temp 0) ∷ (c.Temp 2) ∷ [])) (c.Then (c.Return (Some (c.Const 0))) c.End))))))) }) (s.Then 1 (s.Set ([]) ([])) s.NoBlock (s.Then 2 (s.Set ([]) ([])) s.NoBlock (s.Then 3 (s.Set ([]) ([])) s.NoBlock (s.Then 4 (s.Set ([]) ([])) s.NoBlock (s.Then 5 (s.Set ([]) ([])) s.NoBlock (s.Then 6 (s.Bounds 0 None ([])) s.NoBlock (s.Then 7 (s.Call ((Named name_v0) ∷ (Of unary.Vi (Number (pos 2))) ∷ (Of unary.Vi (Named name_o0)) ∷ []) ([]) ([]) ([])) s.NoBlock (s.Then 8 (s.Have (Rel relation.Le (Number (pos 64)) (Number (pos 64))) ([])) s.NoBlock (s.Then 9 (s.Return ([]) ([]) ([])) s.NoBlock s.End))))))))) ≡ Accepted
unfolding computing
random_390 = refl

random_391 : body_verdict (record { predicates = ([]); specs = ((record { is_void = true; name = name_put; params = (name_p ∷ name_k ∷ []); vars = ((name_v, sort.Val) ∷ (name_w, sort.Val) ∷ (name_o, sort.Val) ∷ []); pre = (record { opened = []; facts = ([]); locals = ((name_p, (Var 0 sort.Val)) ∷ (name_k, (Var 1 sort.Val)) ∷ []); items = ((Data (Number (pos 64)) (Var 0 sort.Val) (Of2 binary.Cons (Var 2 sort.Val) Nil)) ∷ []) }); post = (record { opened = []; facts = ([]); locals = []; items = ((Data (Number (pos 64)) (Var 0 sort.Val) (Of2 binary.Cons (Var 1 sort.Val) Nil)) ∷ []) }) }) ∷ (record { is_void = false; name = name_f; params = (name_p00 ∷ []); vars = ((name_v0, sort.Val) ∷ (name_o0, sort.Int) ∷ []); pre = (record { opened = []; facts = ((Rel relation.Le (Number (pos 0)) (Var 1 sort.Int)) ∷ (Rel relation.Le (Var 1 sort.Int) (Number (pos 20))) ∷ []); locals = ((name_p00, (Var 0 sort.Val)) ∷ []); items = ((Data (Number (pos 64)) (Var 0 sort.Val) (Of2 binary.Cons (Of unary.Vi (Var 1 sort.Int)) Nil)) ∷ []) }); post = (record { opened = []; facts = ((Rel relation.Eq (Var 2 sort.Val) (Of unary.Vi (Number (pos 0)))) ∷ []); locals = []; items = ((Data (Number (pos 64)) (Var 0 sort.Val) (Of2 binary.Cons (Of unary.Vi (Number (pos 2))) Nil)) ∷ []) }) }) ∷ (record { is_void = false; name = name_main; params = ([]); vars = []; pre = (record { opened = []; facts = ([]); locals = []; items = ([]) }); post = (record { opened = []; facts = ((Rel relation.Eq (Var 0 sort.Val) (Of unary.Vi (Number (pos 0)))) ∷ []); locals = []; items = ([]) }) }) ∷ []) }) (record { is_void = false; name = name_f; params = (name_p00 ∷ []); vars = ((name_v0, sort.Val) ∷ (name_o0, sort.Int) ∷ []); pre = (record { opened = []; facts = ((Rel relation.Le (Number (pos 0)) (Var 1 sort.Int)) ∷ (Rel relation.Le (Var 1 sort.Int) (Number (pos 20))) ∷ []); locals = ((name_p00, (Var 0 sort.Val)) ∷ []); items = ((Data (Number (pos 64)) (Var 0 sort.Val) (Of2 binary.Cons (Of unary.Vi (Var 1 sort.Int)) Nil)) ∷ []) }); post = (record { opened = []; facts = ((Rel relation.Eq (Var 2 sort.Val) (Of unary.Vi (Number (pos 0)))) ∷ []); locals = []; items = ((Data (Number (pos 64)) (Var 0 sort.Val) (Of2 binary.Cons (Of unary.Vi (Number (pos 2))) Nil)) ∷ []) }) }) (record { temps = (name_p00 ∷ name_s ∷ name_t ∷ name_i ∷ name_x1 ∷ name_d0 ∷ name_p1 ∷ name_q1 ∷ []); body = (c.Then (c.Set 1 (c.Const 0)) (c.Then (c.Set 2 (c.Const 1)) (c.Then (c.Set 2 (c.Const 2)) (c.Then (c.Set 4 (c.Unary one.Invert kind.Unsigned (c.Const 0))) (c.Then (c.Set 1 (c.Const 1)) (c.Then (c.Call None name_put ((c.Temp 0) ∷ (c.Temp 2) ∷ [])) (c.Then (c.Return (Some (c.Const 0))) c.End))))))) }) (s.Then 1 (s.Set ([]) ([])) s.NoBlock (s.Then 2 (s.Set ([]) ([])) s.NoBlock (s.Then 3 (s.Set ([]) ([])) s.NoBlock (s.Then 4 (s.Set ([]) ([])) s.NoBlock (s.Then 5 (s.Set ([]) ([])) s.NoBlock (s.Then 6 (s.Set ([]) ([])) s.NoBlock (s.Then 7 (s.Bounds 0 None ([])) s.NoBlock (s.Then 8 (s.Have (Rel relation.Le (Number (pos 64)) (Number (pos 64))) ([])) s.NoBlock (s.Then 9 (s.Call ((Named name_v0) ∷ (Of unary.Vi (Number (pos 2))) ∷ (Of unary.Vi (Named name_o0)) ∷ []) ([]) ([]) ([])) s.NoBlock (s.Then 10 (s.Return ([]) ([]) ([])) s.NoBlock s.End)))))))))) ≡ (RefusedAt 6 2 1)
unfolding computing
random_391 = refl

random_392 : body_verdict (record { predicates = ([]); specs = ((record { is_void = true; name = name_put; params = (name_p ∷ name_k ∷ []); vars = ((name_v, sort.Val) ∷ (name_w, sort.Val) ∷ (name_o, sort.Val) ∷ []); pre = (record { opened = []; facts = ([]); locals = ((name_p, (Var 0 sort.Val)) ∷ (name_k, (Var 1 sort.Val)) ∷ []); items = ((Data (Number (pos 64)) (Var 0 sort.Val) (Of2 binary.Cons (Var 2 sort.Val) Nil)) ∷ []) }); post = (record { opened = []; facts = ([]); locals = []; items = ((Data (Number (pos 64)) (Var 0 sort.Val) (Of2 binary.Cons (Var 1 sort.Val) Nil)) ∷ []) }) }) ∷ (record { is_void = false; name = name_f; params = (name_p00 ∷ []); vars = ((name_v0, sort.Val) ∷ (name_o0, sort.Int) ∷ []); pre = (record { opened = []; facts = ((Rel relation.Le (Number (pos 0)) (Var 1 sort.Int)) ∷ (Rel relation.Le (Var 1 sort.Int) (Number (pos 20))) ∷ []); locals = ((name_p00, (Var 0 sort.Val)) ∷ []); items = ((Data (Number (pos 64)) (Var 0 sort.Val) (Of2 binary.Cons (Of unary.Vi (Var 1 sort.Int)) Nil)) ∷ []) }); post = (record { opened = []; facts = ((Rel relation.Eq (Var 2 sort.Val) (Of unary.Vi (Number (pos 0)))) ∷ []); locals = []; items = ((Data (Number (pos 64)) (Var 0 sort.Val) (Of2 binary.Cons (Of unary.Vi (Number (pos 2))) Nil)) ∷ []) }) }) ∷ (record { is_void = false; name = name_main; params = ([]); vars = []; pre = (record { opened = []; facts = ([]); locals = []; items = ([]) }); post = (record { opened = []; facts = ((Rel relation.Eq (Var 0 sort.Val) (Of unary.Vi (Number (pos 0)))) ∷ []); locals = []; items = ([]) }) }) ∷ []) }) (record { is_void = true; name = name_put; params = (name_p ∷ name_k ∷ []); vars = ((name_v, sort.Val) ∷ (name_w, sort.Val) ∷ (name_o, sort.Val) ∷ []); pre = (record { opened = []; facts = ([]); locals = ((name_p, (Var 0 sort.Val)) ∷ (name_k, (Var 1 sort.Val)) ∷ []); items = ((Data (Number (pos 64)) (Var 0 sort.Val) (Of2 binary.Cons (Var 2 sort.Val) Nil)) ∷ []) }); post = (record { opened = []; facts = ([]); locals = []; items = ((Data (Number (pos 64)) (Var 0 sort.Val) (Of2 binary.Cons (Var 1 sort.Val) Nil)) ∷ []) }) }) (record { temps = (name_p ∷ name_k ∷ []); body = (c.Then (c.Store (root.Temp 0) c.Here (c.Temp 1)) (c.Then (c.Return None) c.End)) }) (s.Then 1 (s.Store 32 ([]) ([])) s.NoBlock (s.Then 2 (s.Return ([]) ([]) ([])) s.NoBlock s.End)) ≡ (RefusedAt 1 4 1)
unfolding computing
random_392 = refl

random_393 : body_verdict (record { predicates = ([]); specs = ((record { is_void = true; name = name_put; params = (name_p ∷ name_k ∷ []); vars = ((name_v, sort.Val) ∷ (name_w, sort.Val) ∷ (name_o, sort.Val) ∷ []); pre = (record { opened = []; facts = ([]); locals = ((name_p, (Var 0 sort.Val)) ∷ (name_k, (Var 1 sort.Val)) ∷ []); items = ((Data (Number (pos 64)) (Var 0 sort.Val) (Of2 binary.Cons (Var 2 sort.Val) Nil)) ∷ []) }); post = (record { opened = []; facts = ([]); locals = []; items = ((Data (Number (pos 64)) (Var 0 sort.Val) (Of2 binary.Cons (Var 1 sort.Val) Nil)) ∷ []) }) }) ∷ (record { is_void = false; name = name_f; params = (name_p00 ∷ []); vars = ((name_v0, sort.Val) ∷ (name_o0, sort.Int) ∷ []); pre = (record { opened = []; facts = ((Rel relation.Le (Number (pos 0)) (Var 1 sort.Int)) ∷ (Rel relation.Le (Var 1 sort.Int) (Number (pos 20))) ∷ []); locals = ((name_p00, (Var 0 sort.Val)) ∷ []); items = ((Data (Number (pos 64)) (Var 0 sort.Val) (Of2 binary.Cons (Of unary.Vi (Var 1 sort.Int)) Nil)) ∷ []) }); post = (record { opened = []; facts = ((Rel relation.Eq (Var 2 sort.Val) (Of unary.Vi (Number (pos 0)))) ∷ []); locals = []; items = ((Data (Number (pos 64)) (Var 0 sort.Val) (Of2 binary.Cons (Of unary.Vi (Number (pos 2))) Nil)) ∷ []) }) }) ∷ (record { is_void = false; name = name_main; params = ([]); vars = []; pre = (record { opened = []; facts = ([]); locals = []; items = ([]) }); post = (record { opened = []; facts = ((Rel relation.Eq (Var 0 sort.Val) (Of unary.Vi (Number (pos 0)))) ∷ []); locals = []; items = ([]) }) }) ∷ []) }) (record { is_void = false; name = name_main; params = ([]); vars = []; pre = (record { opened = []; facts = ([]); locals = []; items = ([]) }); post = (record { opened = []; facts = ((Rel relation.Eq (Var 0 sort.Val) (Of unary.Vi (Number (pos 0)))) ∷ []); locals = []; items = ([]) }) }) (record { temps = ([]); body = (c.Then (c.Return (Some (c.Const 0))) c.End) }) s.End ≡ (RefusedAt 1 0 10)
unfolding computing
random_393 = refl

random_394 : body_verdict (record { predicates = ([]); specs = ((record { is_void = true; name = name_put; params = (name_p ∷ name_k ∷ []); vars = ((name_v, sort.Val) ∷ (name_w, sort.Val) ∷ (name_o, sort.Val) ∷ []); pre = (record { opened = []; facts = ([]); locals = ((name_p, (Var 0 sort.Val)) ∷ (name_k, (Var 1 sort.Val)) ∷ []); items = ((Data (Number (pos 64)) (Var 0 sort.Val) (Of2 binary.Cons (Var 2 sort.Val) Nil)) ∷ []) }); post = (record { opened = []; facts = ([]); locals = []; items = ((Data (Number (pos 64)) (Var 0 sort.Val) (Of2 binary.Cons (Var 1 sort.Val) Nil)) ∷ []) }) }) ∷ (record { is_void = false; name = name_f; params = (name_p00 ∷ []); vars = ((name_v0, sort.Val) ∷ (name_o0, sort.Int) ∷ []); pre = (record { opened = []; facts = ((Rel relation.Le (Number (pos 0)) (Var 1 sort.Int)) ∷ (Rel relation.Le (Var 1 sort.Int) (Number (pos 20))) ∷ []); locals = ((name_p00, (Var 0 sort.Val)) ∷ []); items = ((Data (Number (pos 64)) (Var 0 sort.Val) (Of2 binary.Cons (Of unary.Vi (Var 1 sort.Int)) Nil)) ∷ []) }); post = (record { opened = []; facts = ((Rel relation.Eq (Var 2 sort.Val) (Of unary.Vi (Number (pos 0)))) ∷ []); locals = []; items = ((Data (Number (pos 64)) (Var 0 sort.Val) (Of2 binary.Cons (Of unary.Vi (Number (pos 2))) Nil)) ∷ []) }) }) ∷ (record { is_void = false; name = name_main; params = ([]); vars = []; pre = (record { opened = []; facts = ([]); locals = []; items = ([]) }); post = (record { opened = []; facts = ((Rel relation.Eq (Var 0 sort.Val) (Of unary.Vi (Number (pos 0)))) ∷ []); locals = []; items = ([]) }) }) ∷ []) }) (record { is_void = false; name = name_f; params = (name_p00 ∷ []); vars = ((name_v0, sort.Val) ∷ (name_o0, sort.Int) ∷ []); pre = (record { opened = []; facts = ((Rel relation.Le (Number (pos 0)) (Var 1 sort.Int)) ∷ (Rel relation.Le (Var 1 sort.Int) (Number (pos 20))) ∷ []); locals = ((name_p00, (Var 0 sort.Val)) ∷ []); items = ((Data (Number (pos 64)) (Var 0 sort.Val) (Of2 binary.Cons (Of unary.Vi (Var 1 sort.Int)) Nil)) ∷ []) }); post = (record { opened = []; facts = ((Rel relation.Eq (Var 2 sort.Val) (Of unary.Vi (Number (pos 0)))) ∷ []); locals = []; items = ((Data (Number (pos 64)) (Var 0 sort.Val) (Of2 binary.Cons (Of unary.Vi (Number (pos 2))) Nil)) ∷ []) }) }) (record { temps = (name_p00 ∷ name_s ∷ name_t ∷ name_i ∷ name_x1 ∷ name_d0 ∷ name_p1 ∷ name_q1 ∷ []); body = (c.Then (c.Set 1 (c.Const 0)) (c.Then (c.Set 2 (c.Const 1)) (c.Then (c.Set 2 (c.Const 2)) (c.Then (c.Set 4 (c.Unary one.Invert kind.Unsigned (c.Const 0))) (c.Then (c.Set 1 (c.Const 1)) (c.Then (c.Call None name_put ((c.Temp 0) ∷ (c.Temp 2) ∷ [])) (c.Then (c.Return (Some (c.Const 0))) c.End))))))) }) (s.Then 1 (s.Set ([]) ([])) s.NoBlock (s.Then 2 (s.Set ([]) ([])) s.NoBlock (s.Then 3 (s.Set ([]) ([])) s.NoBlock (s.Then 4 (s.Set ([]) ([])) s.NoBlock (s.Then 5 (s.Bounds 0 None ([])) s.NoBlock (s.Then 6 (s.Have (Rel relation.Le (Number (pos 64)) (Number (pos 64))) ([])) s.NoBlock (s.Then 7 (s.Meet ([]) ([])) s.NoBlock (s.Then 8 (s.Return ([]) ([]) ([])) s.NoBlock s.End)))))))) ≡ (RefusedAt 7 37 1)
unfolding computing
random_394 = refl

random_395 : body_verdict (record { predicates = ([]); specs = ((record { is_void = true; name = name_put; params = (name_p ∷ name_k ∷ []); vars = ((name_v, sort.Val) ∷ (name_w, sort.Val) ∷ (name_o, sort.Val) ∷ []); pre = (record { opened = []; facts = ([]); locals = ((name_p, (Var 0 sort.Val)) ∷ (name_k, (Var 1 sort.Val)) ∷ []); items = ((Data (Number (pos 64)) (Var 0 sort.Val) (Of2 binary.Cons (Var 2 sort.Val) Nil)) ∷ []) }); post = (record { opened = []; facts = ([]); locals = []; items = ((Data (Number (pos 64)) (Var 0 sort.Val) (Of2 binary.Cons (Var 1 sort.Val) Nil)) ∷ []) }) }) ∷ (record { is_void = false; name = name_f; params = (name_p00 ∷ []); vars = ((name_v0, sort.Val) ∷ (name_o0, sort.Int) ∷ []); pre = (record { opened = []; facts = ((Rel relation.Le (Number (pos 0)) (Var 1 sort.Int)) ∷ (Rel relation.Le (Var 1 sort.Int) (Number (pos 20))) ∷ []); locals = ((name_p00, (Var 0 sort.Val)) ∷ []); items = ((Data (Number (pos 64)) (Var 0 sort.Val) (Of2 binary.Cons (Of unary.Vi (Var 1 sort.Int)) Nil)) ∷ []) }); post = (record { opened = []; facts = ((Rel relation.Eq (Var 2 sort.Val) (Of unary.Vi (Number (pos 0)))) ∷ []); locals = []; items = ((Data (Number (pos 64)) (Var 0 sort.Val) (Of2 binary.Cons (Of unary.Vi (Number (pos 2))) Nil)) ∷ []) }) }) ∷ (record { is_void = false; name = name_main; params = ([]); vars = []; pre = (record { opened = []; facts = ([]); locals = []; items = ([]) }); post = (record { opened = []; facts = ((Rel relation.Eq (Var 0 sort.Val) (Of unary.Vi (Number (pos 0)))) ∷ []); locals = []; items = ([]) }) }) ∷ []) }) (record { is_void = false; name = name_f; params = (name_p00 ∷ []); vars = ((name_v0, sort.Val) ∷ (name_o0, sort.Int) ∷ []); pre = (record { opened = []; facts = ((Rel relation.Le (Number (pos 0)) (Var 1 sort.Int)) ∷ (Rel relation.Le (Var 1 sort.Int) (Number (pos 20))) ∷ []); locals = ((name_p00, (Var 0 sort.Val)) ∷ []); items = ((Data (Number (pos 64)) (Var 0 sort.Val) (Of2 binary.Cons (Of unary.Vi (Var 1 sort.Int)) Nil)) ∷ []) }); post = (record { opened = []; facts = ((Rel relation.Eq (Var 2 sort.Val) (Of unary.Vi (Number (pos 0)))) ∷ []); locals = []; items = ((Data (Number (pos 64)) (Var 0 sort.Val) (Of2 binary.Cons (Of unary.Vi (Number (pos 2))) Nil)) ∷ []) }) }) (record { temps = (name_p00 ∷ name_s ∷ name_t ∷ name_i ∷ name_x1 ∷ name_d0 ∷ name_p1 ∷ name_q1 ∷ []); body = (c.Then (c.Set 1 (c.Const 0)) (c.Then (c.Set 2 (c.Const 1)) (c.Then (c.Set 2 (c.Const 2)) (c.Then (c.Set 4 (c.Unary one.Invert kind.Unsigned (c.Const 0))) (c.Then (c.Set 1 (c.Const 1)) (c.Then (c.Call None name_put ((c.Temp 0) ∷ (c.Temp 2) ∷ [])) (c.Then (c.Return (Some (c.Const 0))) c.End))))))) }) (s.Then 1 (s.Set ([]) ([])) s.NoBlock (s.Then 2 (s.Set ([]) ([])) s.NoBlock (s.Then 3 (s.Set ([]) ([])) s.NoBlock (s.Then 4 (s.Set ([]) ([])) s.NoBlock (s.Then 5 (s.Set ([]) ([])) s.NoBlock (s.Then 6 (s.Acquire 0 ([])) s.NoBlock (s.Then 7 (s.Bounds 0 None ([])) s.NoBlock (s.Then 8 (s.Have (Rel relation.Le (Number (pos 64)) (Number (pos 64))) ([])) s.NoBlock (s.Then 9 (s.Call ((Named name_v0) ∷ (Of unary.Vi (Number (pos 2))) ∷ (Of unary.Vi (Named name_o0)) ∷ []) ([]) ([]) ([])) s.NoBlock (s.Then 10 (s.Return ([]) ([]) ([])) s.NoBlock s.End)))))))))) ≡ (RefusedAt 6 17 1)
unfolding computing
random_395 = refl

random_396 : body_verdict (record { predicates = ([]); specs = ((record { is_void = true; name = name_put; params = (name_p ∷ name_k ∷ []); vars = ((name_v, sort.Val) ∷ (name_w, sort.Val) ∷ (name_o, sort.Val) ∷ []); pre = (record { opened = []; facts = ([]); locals = ((name_p, (Var 0 sort.Val)) ∷ (name_k, (Var 1 sort.Val)) ∷ []); items = ((Data (Number (pos 64)) (Var 0 sort.Val) (Of2 binary.Cons (Var 2 sort.Val) Nil)) ∷ []) }); post = (record { opened = []; facts = ([]); locals = []; items = ((Data (Number (pos 64)) (Var 0 sort.Val) (Of2 binary.Cons (Var 1 sort.Val) Nil)) ∷ []) }) }) ∷ (record { is_void = false; name = name_f; params = (name_p00 ∷ []); vars = ((name_v0, sort.Val) ∷ (name_o0, sort.Int) ∷ []); pre = (record { opened = []; facts = ((Rel relation.Le (Number (pos 0)) (Var 1 sort.Int)) ∷ (Rel relation.Le (Var 1 sort.Int) (Number (pos 20))) ∷ []); locals = ((name_p00, (Var 0 sort.Val)) ∷ []); items = ((Data (Number (pos 64)) (Var 0 sort.Val) (Of2 binary.Cons (Of unary.Vi (Var 1 sort.Int)) Nil)) ∷ []) }); post = (record { opened = []; facts = ((Rel relation.Eq (Var 2 sort.Val) (Of unary.Vi (Number (pos 0)))) ∷ []); locals = []; items = ((Data (Number (pos 64)) (Var 0 sort.Val) (Of2 binary.Cons (Of unary.Vi (Number (pos 2))) Nil)) ∷ []) }) }) ∷ (record { is_void = false; name = name_main; params = ([]); vars = []; pre = (record { opened = []; facts = ([]); locals = []; items = ([]) }); post = (record { opened = []; facts = ((Rel relation.Eq (Var 0 sort.Val) (Of unary.Vi (Number (pos 0)))) ∷ []); locals = []; items = ([]) }) }) ∷ []) }) (record { is_void = false; name = name_f; params = (name_p00 ∷ []); vars = ((name_v0, sort.Val) ∷ (name_o0, sort.Int) ∷ []); pre = (record { opened = []; facts = ((Rel relation.Le (Number (pos 0)) (Var 1 sort.Int)) ∷ (Rel relation.Le (Var 1 sort.Int) (Number (pos 20))) ∷ []); locals = ((name_p00, (Var 0 sort.Val)) ∷ []); items = ((Data (Number (pos 64)) (Var 0 sort.Val) (Of2 binary.Cons (Of unary.Vi (Var 1 sort.Int)) Nil)) ∷ []) }); post = (record { opened = []; facts = ((Rel relation.Eq (Var 2 sort.Val) (Of unary.Vi (Number (pos 0)))) ∷ []); locals = []; items = ((Data (Number (pos 64)) (Var 0 sort.Val) (Of2 binary.Cons (Of unary.Vi (Number (pos 2))) Nil)) ∷ []) }) }) (record { temps = (name_p00 ∷ name_s ∷ name_t ∷ name_i ∷ name_x1 ∷ name_d0 ∷ name_p1 ∷ name_q1 ∷ []); body = (c.Then (c.Set 1 (c.Const 0)) (c.Then (c.Set 2 (c.Const 1)) (c.Then (c.Set 2 (c.Const 2)) (c.Then (c.Set 4 (c.Unary one.Invert kind.Unsigned (c.Const 0))) (c.Then (c.Set 1 (c.Const 1)) (c.Then (c.Call None name_put ((c.Temp 0) ∷ (c.Temp 2) ∷ [])) (c.Then (c.Return (Some (c.Const 0))) c.End))))))) }) (s.Then 1 (s.Set ([]) ([])) s.NoBlock (s.Then 2 (s.Set ([]) ([])) s.NoBlock (s.Then 3 (s.Set ([]) ([])) s.NoBlock (s.Then 4 s.Skip s.NoBlock (s.Then 5 (s.Set ([]) ([])) s.NoBlock (s.Then 6 (s.Bounds 0 None ([])) s.NoBlock (s.Then 7 (s.Have (Rel relation.Le (Number (pos 64)) (Number (pos 64))) ([])) s.NoBlock (s.Then 8 (s.Call ((Named name_v0) ∷ (Of unary.Vi (Number (pos 2))) ∷ (Of unary.Vi (Named name_o0)) ∷ []) ([]) ([]) ([])) s.NoBlock (s.Then 9 (s.Return ([]) ([]) ([])) s.NoBlock s.End))))))))) ≡ (RefusedAt 4 1 1)
unfolding computing
random_396 = refl

random_397 : body_verdict (record { predicates = ([]); specs = ((record { is_void = true; name = name_put; params = (name_p ∷ name_k ∷ []); vars = ((name_v, sort.Val) ∷ (name_w, sort.Val) ∷ (name_o, sort.Val) ∷ []); pre = (record { opened = []; facts = ([]); locals = ((name_p, (Var 0 sort.Val)) ∷ (name_k, (Var 1 sort.Val)) ∷ []); items = ((Data (Number (pos 64)) (Var 0 sort.Val) (Of2 binary.Cons (Var 2 sort.Val) Nil)) ∷ []) }); post = (record { opened = []; facts = ([]); locals = []; items = ((Data (Number (pos 64)) (Var 0 sort.Val) (Of2 binary.Cons (Var 1 sort.Val) Nil)) ∷ []) }) }) ∷ (record { is_void = false; name = name_f; params = (name_p00 ∷ []); vars = ((name_v0, sort.Val) ∷ (name_o0, sort.Int) ∷ []); pre = (record { opened = []; facts = ((Rel relation.Le (Number (pos 0)) (Var 1 sort.Int)) ∷ (Rel relation.Le (Var 1 sort.Int) (Number (pos 20))) ∷ []); locals = ((name_p00, (Var 0 sort.Val)) ∷ []); items = ((Data (Number (pos 64)) (Var 0 sort.Val) (Of2 binary.Cons (Of unary.Vi (Var 1 sort.Int)) Nil)) ∷ []) }); post = (record { opened = []; facts = ((Rel relation.Eq (Var 2 sort.Val) (Of unary.Vi (Number (pos 0)))) ∷ []); locals = []; items = ((Data (Number (pos 64)) (Var 0 sort.Val) (Of2 binary.Cons (Of unary.Vi (Number (pos 2))) Nil)) ∷ []) }) }) ∷ (record { is_void = false; name = name_main; params = ([]); vars = []; pre = (record { opened = []; facts = ([]); locals = []; items = ([]) }); post = (record { opened = []; facts = ((Rel relation.Eq (Var 0 sort.Val) (Of unary.Vi (Number (pos 0)))) ∷ []); locals = []; items = ([]) }) }) ∷ []) }) (record { is_void = false; name = name_f; params = (name_p00 ∷ []); vars = ((name_v0, sort.Val) ∷ (name_o0, sort.Int) ∷ []); pre = (record { opened = []; facts = ((Rel relation.Le (Number (pos 0)) (Var 1 sort.Int)) ∷ (Rel relation.Le (Var 1 sort.Int) (Number (pos 20))) ∷ []); locals = ((name_p00, (Var 0 sort.Val)) ∷ []); items = ((Data (Number (pos 64)) (Var 0 sort.Val) (Of2 binary.Cons (Of unary.Vi (Var 1 sort.Int)) Nil)) ∷ []) }); post = (record { opened = []; facts = ((Rel relation.Eq (Var 2 sort.Val) (Of unary.Vi (Number (pos 0)))) ∷ []); locals = []; items = ((Data (Number (pos 64)) (Var 0 sort.Val) (Of2 binary.Cons (Of unary.Vi (Number (pos 2))) Nil)) ∷ []) }) }) (record { temps = (name_p00 ∷ name_s ∷ name_t ∷ name_i ∷ name_x1 ∷ name_d0 ∷ name_p1 ∷ name_q1 ∷ []); body = (c.Then (c.Set 1 (c.Const 0)) (c.Then (c.Set 2 (c.Const 1)) (c.Then (c.Set 2 (c.Const 2)) (c.Then (c.Set 4 (c.Unary one.Invert kind.Unsigned (c.Const 0))) (c.Then (c.Call None name_put ((c.Temp 0) ∷ (c.Temp 2) ∷ [])) (c.Then (c.Return (Some (c.Const 0))) c.End)))))) }) (s.Then 1 (s.Set ([]) ([])) s.NoBlock (s.Then 2 (s.Set ([]) ([])) s.NoBlock (s.Then 3 (s.Set ([]) ([])) s.NoBlock (s.Then 4 (s.Set ([]) ([])) s.NoBlock (s.Then 5 (s.Set ([]) ([])) s.NoBlock (s.Then 6 (s.Bounds 0 None ([])) s.NoBlock (s.Then 7 (s.Have (Rel relation.Le (Number (pos 64)) (Number (pos 64))) ([])) s.NoBlock (s.Then 8 (s.Call ((Named name_v0) ∷ (Of unary.Vi (Number (pos 2))) ∷ (Of unary.Vi (Named name_o0)) ∷ []) ([]) ([]) ([])) s.NoBlock (s.Then 9 (s.Return ([]) ([]) ([])) s.NoBlock s.End))))))))) ≡ (RefusedAt 5 2 1)
unfolding computing
random_397 = refl

random_398 : body_verdict (record { predicates = ([]); specs = ((record { is_void = true; name = name_put; params = (name_p ∷ name_k ∷ []); vars = ((name_v, sort.Val) ∷ (name_w, sort.Val) ∷ (name_o, sort.Val) ∷ []); pre = (record { opened = []; facts = ([]); locals = ((name_p, (Var 0 sort.Val)) ∷ (name_k, (Var 1 sort.Val)) ∷ []); items = ((Data (Number (pos 64)) (Var 0 sort.Val) (Of2 binary.Cons (Var 2 sort.Val) Nil)) ∷ []) }); post = (record { opened = []; facts = ([]); locals = []; items = ((Data (Number (pos 64)) (Var 0 sort.Val) (Of2 binary.Cons (Var 1 sort.Val) Nil)) ∷ []) }) }) ∷ (record { is_void = false; name = name_f; params = (name_p00 ∷ []); vars = ((name_v0, sort.Val) ∷ (name_o0, sort.Int) ∷ []); pre = (record { opened = []; facts = ((Rel relation.Le (Number (pos 0)) (Var 1 sort.Int)) ∷ (Rel relation.Le (Var 1 sort.Int) (Number (pos 20))) ∷ []); locals = ((name_p00, (Var 0 sort.Val)) ∷ []); items = ((Data (Number (pos 31)) (Var 0 sort.Val) (Of2 binary.Cons (Of unary.Vi (Var 1 sort.Int)) Nil)) ∷ []) }); post = (record { opened = []; facts = ((Rel relation.Eq (Var 2 sort.Val) (Of unary.Vi (Number (pos 0)))) ∷ []); locals = []; items = ((Data (Number (pos 64)) (Var 0 sort.Val) (Of2 binary.Cons (Of unary.Vi (Number (pos 2))) Nil)) ∷ []) }) }) ∷ (record { is_void = false; name = name_main; params = ([]); vars = []; pre = (record { opened = []; facts = ([]); locals = []; items = ([]) }); post = (record { opened = []; facts = ((Rel relation.Eq (Var 0 sort.Val) (Of unary.Vi (Number (pos 0)))) ∷ []); locals = []; items = ([]) }) }) ∷ []) }) (record { is_void = false; name = name_f; params = (name_p00 ∷ []); vars = ((name_v0, sort.Val) ∷ (name_o0, sort.Int) ∷ []); pre = (record { opened = []; facts = ((Rel relation.Le (Number (pos 0)) (Var 1 sort.Int)) ∷ (Rel relation.Le (Var 1 sort.Int) (Number (pos 20))) ∷ []); locals = ((name_p00, (Var 0 sort.Val)) ∷ []); items = ((Data (Number (pos 31)) (Var 0 sort.Val) (Of2 binary.Cons (Of unary.Vi (Var 1 sort.Int)) Nil)) ∷ []) }); post = (record { opened = []; facts = ((Rel relation.Eq (Var 2 sort.Val) (Of unary.Vi (Number (pos 0)))) ∷ []); locals = []; items = ((Data (Number (pos 64)) (Var 0 sort.Val) (Of2 binary.Cons (Of unary.Vi (Number (pos 2))) Nil)) ∷ []) }) }) (record { temps = (name_p00 ∷ name_s ∷ name_t ∷ name_i ∷ name_x1 ∷ name_d0 ∷ name_p1 ∷ name_q1 ∷ []); body = (c.Then (c.Set 1 (c.Const 0)) (c.Then (c.Set 2 (c.Const 1)) (c.Then (c.Set 2 (c.Const 2)) (c.Then (c.Set 4 (c.Unary one.Invert kind.Unsigned (c.Const 0))) (c.Then (c.Set 1 (c.Const 1)) (c.Then (c.Call None name_put ((c.Temp 0) ∷ (c.Temp 2) ∷ [])) (c.Then (c.Return (Some (c.Const 0))) c.End))))))) }) (s.Then 1 (s.Set ([]) ([])) s.NoBlock (s.Then 2 (s.Set ([]) ([])) s.NoBlock (s.Then 3 (s.Set ([]) ([])) s.NoBlock (s.Then 4 (s.Set ([]) ([])) s.NoBlock (s.Then 5 (s.Set ([]) ([])) s.NoBlock (s.Then 6 (s.Bounds 0 None ([])) s.NoBlock (s.Then 7 (s.Have (Rel relation.Le (Number (pos 64)) (Number (pos 64))) ([])) s.NoBlock (s.Then 8 (s.Call ((Named name_v0) ∷ (Of unary.Vi (Number (pos 3))) ∷ (Of unary.Vi (Named name_o0)) ∷ []) ([]) ([]) ([])) s.NoBlock (s.Then 9 (s.Return ([]) ([]) ([])) s.NoBlock s.End))))))))) ≡ (RefusedAt 8 13 4)
unfolding computing
random_398 = refl

random_399 : body_verdict (record { predicates = ([]); specs = ((record { is_void = true; name = name_put; params = (name_p ∷ name_k ∷ []); vars = ((name_v, sort.Val) ∷ (name_w, sort.Val) ∷ (name_o, sort.Val) ∷ []); pre = (record { opened = []; facts = ([]); locals = ((name_p, (Var 0 sort.Val)) ∷ (name_k, (Var 1 sort.Val)) ∷ []); items = ((Data (Number (pos 64)) (Var 0 sort.Val) (Of2 binary.Cons (Var 2 sort.Val) Nil)) ∷ []) }); post = (record { opened = []; facts = ([]); locals = []; items = ((Data (Number (pos 64)) (Var 0 sort.Val) (Of2 binary.Cons (Var 1 sort.Val) Nil)) ∷ []) }) }) ∷ (record { is_void = false; name = name_f; params = (name_p00 ∷ []); vars = ((name_v0, sort.Val) ∷ (name_o0, sort.Int) ∷ []); pre = (record { opened = []; facts = ((Rel relation.Le (Number (pos 0)) (Var 1 sort.Int)) ∷ (Rel relation.Le (Var 1 sort.Int) (Number (pos 20))) ∷ []); locals = ((name_p00, (Var 0 sort.Val)) ∷ []); items = ((Data (Number (pos 31)) (Var 0 sort.Val) (Of2 binary.Cons (Of unary.Vi (Var 1 sort.Int)) Nil)) ∷ []) }); post = (record { opened = []; facts = ((Rel relation.Eq (Var 2 sort.Val) (Of unary.Vi (Number (pos 0)))) ∷ []); locals = []; items = ((Data (Number (pos 64)) (Var 0 sort.Val) (Of2 binary.Cons (Of unary.Vi (Number (pos 2))) Nil)) ∷ []) }) }) ∷ (record { is_void = false; name = name_main; params = ([]); vars = []; pre = (record { opened = []; facts = ([]); locals = []; items = ([]) }); post = (record { opened = []; facts = ((Rel relation.Eq (Var 0 sort.Val) (Of unary.Vi (Number (pos 0)))) ∷ []); locals = []; items = ([]) }) }) ∷ []) }) (record { is_void = true; name = name_put; params = (name_p ∷ name_k ∷ []); vars = ((name_v, sort.Val) ∷ (name_w, sort.Val) ∷ (name_o, sort.Val) ∷ []); pre = (record { opened = []; facts = ([]); locals = ((name_p, (Var 0 sort.Val)) ∷ (name_k, (Var 1 sort.Val)) ∷ []); items = ((Data (Number (pos 64)) (Var 0 sort.Val) (Of2 binary.Cons (Var 2 sort.Val) Nil)) ∷ []) }); post = (record { opened = []; facts = ([]); locals = []; items = ((Data (Number (pos 64)) (Var 0 sort.Val) (Of2 binary.Cons (Var 1 sort.Val) Nil)) ∷ []) }) }) (record { temps = (name_p ∷ name_k ∷ []); body = (c.Then (c.Store (root.Temp 0) c.Here (c.Temp 1)) (c.Then (c.Return None) c.End)) }) (s.Then 1 (s.Store 0 ([]) ([])) s.NoBlock (s.Then 2 (s.Return ([]) ([]) ([])) s.NoBlock s.End)) ≡ Accepted
unfolding computing
random_399 = refl

random_400 : body_verdict (record { predicates = ([]); specs = ((record { is_void = true; name = name_put; params = (name_p ∷ name_k ∷ []); vars = ((name_v, sort.Val) ∷ (name_w, sort.Val) ∷ (name_o, sort.Val) ∷ []); pre = (record { opened = []; facts = ([]); locals = ((name_p, (Var 0 sort.Val)) ∷ (name_k, (Var 1 sort.Val)) ∷ []); items = ((Data (Number (pos 64)) (Var 0 sort.Val) (Of2 binary.Cons (Var 2 sort.Val) Nil)) ∷ []) }); post = (record { opened = []; facts = ([]); locals = []; items = ((Data (Number (pos 64)) (Var 0 sort.Val) (Of2 binary.Cons (Var 1 sort.Val) Nil)) ∷ []) }) }) ∷ (record { is_void = false; name = name_f; params = (name_p00 ∷ []); vars = ((name_v0, sort.Val) ∷ (name_o0, sort.Int) ∷ []); pre = (record { opened = []; facts = ((Rel relation.Le (Number (pos 0)) (Var 1 sort.Int)) ∷ (Rel relation.Le (Var 1 sort.Int) (Number (pos 20))) ∷ []); locals = ((name_p00, (Var 0 sort.Val)) ∷ []); items = ((Data (Number (pos 31)) (Var 0 sort.Val) (Of2 binary.Cons (Of unary.Vi (Var 1 sort.Int)) Nil)) ∷ []) }); post = (record { opened = []; facts = ((Rel relation.Eq (Var 2 sort.Val) (Of unary.Vi (Number (pos 0)))) ∷ []); locals = []; items = ((Data (Number (pos 64)) (Var 0 sort.Val) (Of2 binary.Cons (Of unary.Vi (Number (pos 2))) Nil)) ∷ []) }) }) ∷ (record { is_void = false; name = name_main; params = ([]); vars = []; pre = (record { opened = []; facts = ([]); locals = []; items = ([]) }); post = (record { opened = []; facts = ((Rel relation.Eq (Var 0 sort.Val) (Of unary.Vi (Number (pos 0)))) ∷ []); locals = []; items = ([]) }) }) ∷ []) }) (record { is_void = false; name = name_main; params = ([]); vars = []; pre = (record { opened = []; facts = ([]); locals = []; items = ([]) }); post = (record { opened = []; facts = ((Rel relation.Eq (Var 0 sort.Val) (Of unary.Vi (Number (pos 0)))) ∷ []); locals = []; items = ([]) }) }) (record { temps = ([]); body = (c.Then (c.Return (Some (c.Const 0))) c.End) }) (s.Then 1 (s.Return ([]) ([]) ([])) s.NoBlock s.End) ≡ Accepted
unfolding computing
random_400 = refl
