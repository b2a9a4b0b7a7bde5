-- Random works.
use Rattle.std.specs.Prelude.{◌≡◌, refl, pos, [], ◌∷◌, true, false, Some, None}
use Rattle.vd_terms.specs.Terms.{Number, Var, Named, Global, Undef, Nil, Of, Of2, Of3}
use Rattle.vd_terms.specs.declared.assertion.FactOf.TheVariants.{Rel}
use Rattle.vd_terms.specs.declared.assertion.ItemOf.TheVariants.{Data, Lock}
use Rattle.vd_rules.specs.Computing.{computing}
use Rattle.vd_rules.specs.Verdicts.{Accepted, RefusedAt, body_verdict, init_verdict}
use Rattle.vd_terms.specs.declared.operation.Unary.TheVariants as unary
use Rattle.vd_terms.specs.declared.operation.Binary.TheVariants as binary
use Rattle.vd_terms.specs.declared.operation.Ternary.TheVariants as ternary
use Rattle.vd_logic.specs.declared.term.Sort.TheVariants as sort
use Rattle.vd_logic.specs.declared.assertion.Rel.TheVariants as relation
use Rattle.vd_logic.specs.declared.step.CertLine.TheVariants as line
use Rattle.vd_logic.specs.declared.step.Forgotten.TheVariants as forgotten
use Rattle.vd_clight.specs.declared.syntax.UnOp.TheVariants as one
use Rattle.vd_clight.specs.declared.syntax.BinOp.TheVariants as two
use Rattle.vd_clight.specs.declared.typed.Kind.TheVariants as kind
use Rattle.vd_clight.specs.declared.typed.Root.TheVariants as root
use Rattle.vd_clight.specs.declared.typed.LockOp.TheVariants as lock
use Rattle.vd_steps.specs.Code as c
use Rattle.vd_steps.specs.Script as s
use Rattle.vd_examples.specs.Names.{name_E, name_a, name_a0, name_a1, name_arr, name_b0, name_b2, name_d0, name_e0, name_f, name_g, name_h1, name_i, name_inc, name_iv, name_k, name_k1, name_l, name_l0, name_len_upd, name_main, name_n, name_n0, name_n1, name_nop, name_o, name_o0, name_o1, name_ov, name_p, name_p00, name_p1, name_p10, name_put, name_q1, name_r0, name_s, name_s1, name_t, name_two, name_u0, name_u2, name_v, name_v0, name_v1, name_w, name_w1, name_x, name_x1, name_z, name_zz}

random_101 : body_verdict (record { predicates = ([]); specs = ((record { is_void = false; name = name_f; params = (name_p00 ∷ name_p10 ∷ []); vars = ((name_v0, sort.Val) ∷ (name_o0, sort.Int) ∷ (name_v1, sort.Val) ∷ (name_o1, sort.Int) ∷ []); pre = (record { opened = []; facts = ((Rel relation.Le (Number (pos 0)) (Var 1 sort.Int)) ∷ (Rel relation.Le (Var 1 sort.Int) (Number (pos 20))) ∷ (Rel relation.Le (Number (pos 0)) (Var 3 sort.Int)) ∷ (Rel relation.Le (Var 3 sort.Int) (Number (pos 20))) ∷ []); locals = ((name_p00, (Var 0 sort.Val)) ∷ (name_p10, (Var 2 sort.Val)) ∷ []); items = ((Data (Number (pos 64)) (Var 0 sort.Val) (Of2 binary.Cons (Of unary.Vi (Var 1 sort.Int)) Nil)) ∷ (Data (Number (pos 64)) (Var 2 sort.Val) (Of2 binary.Cons (Of unary.Vi (Var 3 sort.Int)) Nil)) ∷ []) }); post = (record { opened = (sort.List ∷ sort.List ∷ []); facts = ([]); locals = []; items = ((Data (Number (pos 64)) (Var 0 sort.Val) (Var 5 sort.List)) ∷ (Data (Number (pos 64)) (Var 2 sort.Val) (Var 6 sort.List)) ∷ []) }) }) ∷ (record { is_void = false; name = name_main; params = ([]); vars = []; pre = (record { opened = []; facts = ([]); locals = []; items = ([]) }); post = (record { opened = []; facts = ((Rel relation.Eq (Var 0 sort.Val) (Of unary.Vi (Number (pos 0)))) ∷ []); locals = []; items = ([]) }) }) ∷ []) }) (record { is_void = false; name = name_f; params = (name_p00 ∷ name_p10 ∷ []); vars = ((name_v0, sort.Val) ∷ (name_o0, sort.Int) ∷ (name_v1, sort.Val) ∷ (name_o1, sort.Int) ∷ []); pre = (record { opened = []; facts = ((Rel relation.Le (Number (pos 0)) (Var 1 sort.Int)) ∷ (Rel relation.Le (Var 1 sort.Int) (Number (pos 20))) ∷ (Rel relation.Le (Number (pos 0)) (Var 3 sort.Int)) ∷ (Rel relation.Le (Var 3 sort.Int) (Number (pos 20))) ∷ []); locals = ((name_p00, (Var 0 sort.Val)) ∷ (name_p10, (Var 2 sort.Val)) ∷ []); items = ((Data (Number (pos 64)) (Var 0 sort.Val) (Of2 binary.Cons (Of unary.Vi (Var 1 sort.Int)) Nil)) ∷ (Data (Number (pos 64)) (Var 2 sort.Val) (Of2 binary.Cons (Of unary.Vi (Var 3 sort.Int)) Nil)) ∷ []) }); post = (record { opened = (sort.List ∷ sort.List ∷ []); facts = ([]); locals = []; items = ((Data (Number (pos 64)) (Var 0 sort.Val) (Var 5 sort.List)) ∷ (Data (Number (pos 64)) (Var 2 sort.Val) (Var 6 sort.List)) ∷ []) }) }) (record { temps = (name_p00 ∷ name_p10 ∷ name_s ∷ name_t ∷ name_i ∷ name_x1 ∷ name_d0 ∷ name_p1 ∷ name_q1 ∷ []); body = (c.Then (c.Set 2 (c.Const 1)) (c.Then (c.Set 3 (c.Const 2)) (c.Then (c.Store (root.Temp 0) c.Here (c.Const 1)) (c.Then (c.Malloc 7 3) (c.Then (c.If (c.Pointers (c.Temp 7) (c.Const 0) true) (c.Then (c.Return (Some (c.Const 0))) c.End) c.End) (c.Then (c.Store (root.Temp 7) (c.Offset 0 c.Here) (c.Const 2)) (c.Then (c.Load 3 (root.Temp 7) (c.Offset 0 c.Here)) (c.Then (c.Free (c.Temp 7)) (c.Then (c.Load 2 (root.Temp 0) c.Here) (c.Then (c.Set 2 (c.Temp 3)) (c.Then (c.Return (Some (c.Temp 2))) c.End))))))))))) }) (s.Then 1 (s.Set ([]) ([])) s.NoBlock (s.Then 2 (s.Set ([]) ([])) s.NoBlock (s.Then 3 (s.Store 0 ([]) ([])) s.NoBlock (s.Then 4 (s.Malloc name_k1 ([]) ([])) (s.WithBlock (s.Then 5 (s.If ([]) ([]) ([]) ([])) (s.WithBlock (s.Then 6 (s.Return ((Of2 binary.Cons (Of unary.Vi (Number (pos 1))) Nil) ∷ (Of2 binary.Cons (Of unary.Vi (Named name_o1)) Nil) ∷ []) ([]) ([])) s.NoBlock s.End) (s.WithBlock (s.Then 7 (s.Fold name_two 1 ((Of unary.Vi (Number (pos 0))) ∷ []) ((Number (pos 1)) ∷ (Of unary.Vi (Number (pos 0))) ∷ []) ([])) s.NoBlock (s.Then 8 (s.Absurd ([])) s.NoBlock s.End)) s.NoBlock)) s.End) (s.WithBlock (s.Then 9 (s.If (2 ∷ []) ([]) ([]) ([])) (s.WithBlock (s.Then 10 (s.Subst name_k1) s.NoBlock (s.Then 11 (s.Absurd ([])) s.NoBlock s.End)) (s.WithBlock (s.Then 12 (s.Store 2 ([]) ([])) s.NoBlock (s.Then 13 (s.Load 2 ([]) ([])) s.NoBlock (s.Then 14 (s.Free 2 3 ([])) s.NoBlock (s.Then 15 (s.Load 0 ([]) ([])) s.NoBlock (s.Then 16 (s.Set ([]) ([])) s.NoBlock (s.Then 17 (s.Return ((Of2 binary.Cons (Of unary.Vi (Number (pos 1))) Nil) ∷ (Of2 binary.Cons (Of unary.Vi (Named name_o1)) Nil) ∷ []) ([]) ([])) s.NoBlock s.End)))))) s.NoBlock)) s.End) s.NoBlock)) s.End)))) ≡ (RefusedAt 7 21 7)
unfolding computing
random_101 = refl

random_102 : body_verdict (record { predicates = ([]); specs = ((record { is_void = false; name = name_f; params = (name_p00 ∷ name_p10 ∷ []); vars = ((name_v0, sort.Val) ∷ (name_o0, sort.Int) ∷ (name_v1, sort.Val) ∷ (name_o1, sort.Int) ∷ []); pre = (record { opened = []; facts = ((Rel relation.Le (Number (pos 0)) (Var 1 sort.Int)) ∷ (Rel relation.Le (Var 1 sort.Int) (Number (pos 20))) ∷ (Rel relation.Le (Number (pos 0)) (Var 3 sort.Int)) ∷ (Rel relation.Le (Var 3 sort.Int) (Number (pos 20))) ∷ []); locals = ((name_p00, (Var 0 sort.Val)) ∷ (name_p10, (Var 2 sort.Val)) ∷ []); items = ((Data (Number (pos 64)) (Var 0 sort.Val) (Of2 binary.Cons (Of unary.Vi (Var 1 sort.Int)) Nil)) ∷ (Data (Number (pos 64)) (Var 2 sort.Val) (Of2 binary.Cons (Of unary.Vi (Var 3 sort.Int)) Nil)) ∷ []) }); post = (record { opened = (sort.List ∷ sort.List ∷ []); facts = ([]); locals = []; items = ((Data (Number (pos 64)) (Var 0 sort.Val) (Var 5 sort.List)) ∷ (Data (Number (pos 64)) (Var 2 sort.Val) (Var 6 sort.List)) ∷ []) }) }) ∷ (record { is_void = false; name = name_main; params = ([]); vars = []; pre = (record { opened = []; facts = ([]); locals = []; items = ([]) }); post = (record { opened = []; facts = ((Rel relation.Eq (Var 0 sort.Val) (Of unary.Vi (Number (pos 0)))) ∷ []); locals = []; items = ([]) }) }) ∷ []) }) (record { is_void = false; name = name_f; params = (name_p00 ∷ name_p10 ∷ []); vars = ((name_v0, sort.Val) ∷ (name_o0, sort.Int) ∷ (name_v1, sort.Val) ∷ (name_o1, sort.Int) ∷ []); pre = (record { opened = []; facts = ((Rel relation.Le (Number (pos 0)) (Var 1 sort.Int)) ∷ (Rel relation.Le (Var 1 sort.Int) (Number (pos 20))) ∷ (Rel relation.Le (Number (pos 0)) (Var 3 sort.Int)) ∷ (Rel relation.Le (Var 3 sort.Int) (Number (pos 20))) ∷ []); locals = ((name_p00, (Var 0 sort.Val)) ∷ (name_p10, (Var 2 sort.Val)) ∷ []); items = ((Data (Number (pos 64)) (Var 0 sort.Val) (Of2 binary.Cons (Of unary.Vi (Var 1 sort.Int)) Nil)) ∷ (Data (Number (pos 64)) (Var 2 sort.Val) (Of2 binary.Cons (Of unary.Vi (Var 3 sort.Int)) Nil)) ∷ []) }); post = (record { opened = (sort.List ∷ sort.List ∷ []); facts = ([]); locals = []; items = ((Data (Number (pos 64)) (Var 0 sort.Val) (Var 5 sort.List)) ∷ (Data (Number (pos 64)) (Var 2 sort.Val) (Var 6 sort.List)) ∷ []) }) }) (record { temps = (name_p00 ∷ name_p10 ∷ name_s ∷ name_t ∷ name_i ∷ name_x1 ∷ name_d0 ∷ name_p1 ∷ name_q1 ∷ []); body = (c.Then (c.Set 2 (c.Const 1)) (c.Then (c.Set 3 (c.Const 2)) (c.Then (c.Store (root.Temp 0) c.Here (c.Const 1)) (c.Then (c.Malloc 7 3) (c.Then (c.If (c.Pointers (c.Temp 7) (c.Const 0) true) (c.Then (c.Return (Some (c.Const 0))) c.End) c.End) (c.Then (c.Store (root.Temp 7) (c.Offset 0 c.Here) (c.Const 2)) (c.Then (c.Load 3 (root.Temp 7) (c.Offset 0 c.Here)) (c.Then (c.Free (c.Temp 7)) (c.Then (c.Load 2 (root.Temp 0) c.Here) (c.Then (c.Set 2 (c.Temp 3)) (c.Then (c.Return (Some (c.Temp 2))) c.End))))))))))) }) (s.Then 1 (s.Set ([]) ([])) s.NoBlock (s.Then 2 (s.Set ([]) ([])) s.NoBlock (s.Then 3 (s.Store 0 ([]) ([])) s.NoBlock (s.Then 4 (s.Malloc name_k1 ([]) ([])) (s.WithBlock (s.Then 5 (s.If ([]) ([]) ([]) ([])) (s.WithBlock (s.Then 6 (s.Return ((Of2 binary.Cons (Of unary.Vi (Number (pos 1))) Nil) ∷ (Of2 binary.Cons (Of unary.Vi (Named name_o1)) Nil) ∷ []) ([]) ([])) s.NoBlock s.End) (s.WithBlock (s.Then 7 (s.Absurd ([])) s.NoBlock s.End) s.NoBlock)) s.End) (s.WithBlock (s.Then 8 (s.If (2 ∷ []) ([]) ([]) ([])) (s.WithBlock (s.Then 9 (s.Absurd ([])) s.NoBlock s.End) (s.WithBlock (s.Then 10 (s.Store 2 ([]) ([])) s.NoBlock (s.Then 11 (s.Load 2 ([]) ([])) s.NoBlock (s.Then 12 (s.Free 2 3 ([])) s.NoBlock (s.Then 13 (s.Load 0 ([]) ([])) s.NoBlock (s.Then 14 (s.Set ([]) ([])) s.NoBlock (s.Then 15 (s.Return ((Of2 binary.Cons (Of unary.Vi (Number (pos 1))) Nil) ∷ (Of2 binary.Cons (Of unary.Vi (Named name_o1)) Nil) ∷ []) ([]) ([])) s.NoBlock s.End)))))) s.NoBlock)) s.End) s.NoBlock)) s.End)))) ≡ (RefusedAt 9 24 3)
unfolding computing
random_102 = refl

random_103 : body_verdict (record { predicates = ([]); specs = ((record { is_void = true; name = name_nop; params = ([]); vars = []; pre = (record { opened = []; facts = ([]); locals = []; items = ([]) }); post = (record { opened = []; facts = ([]); locals = []; items = ([]) }) }) ∷ (record { is_void = false; name = name_main; params = ([]); vars = []; pre = (record { opened = []; facts = ([]); locals = []; items = ([]) }); post = (record { opened = []; facts = ((Rel relation.Eq (Var 0 sort.Val) (Of unary.Vi (Number (pos 3)))) ∷ []); locals = []; items = ([]) }) }) ∷ []) }) (record { is_void = false; name = name_main; params = ([]); vars = []; pre = (record { opened = []; facts = ([]); locals = []; items = ([]) }); post = (record { opened = []; facts = ((Rel relation.Eq (Var 0 sort.Val) (Of unary.Vi (Number (pos 3)))) ∷ []); locals = []; items = ([]) }) }) (record { temps = (name_s ∷ name_t ∷ name_i ∷ name_x1 ∷ name_d0 ∷ name_p1 ∷ name_q1 ∷ []); body = (c.Then (c.Set 0 (c.Const 1)) (c.Then (c.Set 1 (c.Const 1)) (c.Then (c.Call None name_nop ([])) (c.Then (c.Return (Some (c.Binary two.Div kind.Signed (c.Const 3) (c.Const 1)))) c.End)))) }) (s.Then 1 (s.Set ([]) ([])) s.NoBlock (s.Then 2 (s.Call ([]) ([]) ([]) ([])) s.NoBlock (s.Then 3 (s.Return ([]) ([]) ([])) s.NoBlock s.End))) ≡ (RefusedAt 2 13 1)
unfolding computing
random_103 = refl

random_104 : body_verdict (record { predicates = ([]); specs = ((record { is_void = true; name = name_nop; params = ([]); vars = []; pre = (record { opened = []; facts = ([]); locals = []; items = ([]) }); post = (record { opened = []; facts = ([]); locals = []; items = ([]) }) }) ∷ (record { is_void = false; name = name_main; params = ([]); vars = []; pre = (record { opened = []; facts = ([]); locals = []; items = ([]) }); post = (record { opened = []; facts = ((Rel relation.Eq (Var 0 sort.Val) (Of unary.Vi (Number (pos 3)))) ∷ []); locals = []; items = ([]) }) }) ∷ []) }) (record { is_void = false; name = name_main; params = ([]); vars = []; pre = (record { opened = []; facts = ([]); locals = []; items = ([]) }); post = (record { opened = []; facts = ((Rel relation.Eq (Var 0 sort.Val) (Of unary.Vi (Number (pos 3)))) ∷ []); locals = []; items = ([]) }) }) (record { temps = (name_s ∷ name_t ∷ name_i ∷ name_x1 ∷ name_d0 ∷ name_p1 ∷ name_q1 ∷ []); body = (c.Then (c.Set 0 (c.Const 1)) (c.Then (c.Set 1 (c.Const 1)) (c.Then (c.Call None name_nop ([])) (c.Then (c.Return (Some (c.Binary two.Div kind.Signed (c.Const 3) (c.Const 1)))) c.End)))) }) (s.Then 1 (s.Set ([]) ([])) s.NoBlock (s.Then 2 (s.Set ([]) ([])) s.NoBlock (s.Then 3 (s.Store 0 ([]) ([])) s.NoBlock (s.Then 4 (s.Return ([]) ([]) ([])) s.NoBlock s.End)))) ≡ (RefusedAt 3 4 1)
unfolding computing
random_104 = refl

random_105 : body_verdict (record { predicates = ([]); specs = ((record { is_void = true; name = name_nop; params = ([]); vars = []; pre = (record { opened = []; facts = ([]); locals = []; items = ([]) }); post = (record { opened = []; facts = ([]); locals = []; items = ([]) }) }) ∷ (record { is_void = false; name = name_main; params = ([]); vars = []; pre = (record { opened = []; facts = ([]); locals = []; items = ([]) }); post = (record { opened = []; facts = ((Rel relation.Eq (Var 0 sort.Val) (Of unary.Vi (Number (pos 3)))) ∷ []); locals = []; items = ([]) }) }) ∷ []) }) (record { is_void = false; name = name_main; params = ([]); vars = []; pre = (record { opened = []; facts = ([]); locals = []; items = ([]) }); post = (record { opened = []; facts = ((Rel relation.Eq (Var 0 sort.Val) (Of unary.Vi (Number (pos 3)))) ∷ []); locals = []; items = ([]) }) }) (record { temps = (name_s ∷ name_t ∷ name_i ∷ name_x1 ∷ name_d0 ∷ name_p1 ∷ name_q1 ∷ []); body = (c.Then (c.Set 0 (c.Const 1)) (c.Then (c.Set 1 (c.Const 1)) (c.Then (c.Call None name_nop ([])) (c.Then (c.Return (Some (c.Binary two.Div kind.Signed (c.Const 3) (c.Const 1)))) c.End)))) }) (s.Then 1 (s.Set ([]) ([])) s.NoBlock (s.Then 2 s.Skip s.NoBlock (s.Then 3 (s.Call ([]) ([]) ([]) ([])) s.NoBlock (s.Then 4 (s.Return ([]) ([]) ([])) s.NoBlock s.End)))) ≡ (RefusedAt 2 1 1)
unfolding computing
random_105 = refl

random_106 : body_verdict (record { predicates = ([]); specs = ((record { is_void = true; name = name_nop; params = ([]); vars = []; pre = (record { opened = []; facts = ([]); locals = []; items = ([]) }); post = (record { opened = []; facts = ([]); locals = []; items = ([]) }) }) ∷ (record { is_void = false; name = name_main; params = ([]); vars = []; pre = (record { opened = []; facts = ([]); locals = []; items = ([]) }); post = (record { opened = []; facts = ((Rel relation.Eq (Var 0 sort.Val) (Of unary.Vi (Number (pos 3)))) ∷ []); locals = []; items = ([]) }) }) ∷ []) }) (record { is_void = false; name = name_main; params = ([]); vars = []; pre = (record { opened = []; facts = ([]); locals = []; items = ([]) }); post = (record { opened = []; facts = ((Rel relation.Eq (Var 0 sort.Val) (Of unary.Vi (Number (pos 3)))) ∷ []); locals = []; items = ([]) }) }) (record { temps = (name_s ∷ name_t ∷ name_i ∷ name_x1 ∷ name_d0 ∷ name_p1 ∷ name_q1 ∷ []); body = (c.Then (c.Set 0 (c.Const 1)) (c.Then (c.Set 1 (c.Const 1)) (c.Then (c.Call None name_nop ([])) (c.Then (c.Return (Some (c.Binary two.Div kind.Signed (c.Const 3) (c.Const 1)))) c.End)))) }) (s.Then 1 (s.Set ([]) ([])) s.NoBlock (s.Then 2 (s.Set ([]) ([])) s.NoBlock (s.Then 3 (s.Return ([]) ([]) ([])) s.NoBlock (s.Then 4 (s.Call ([]) ([]) ([]) ([])) s.NoBlock s.End)))) ≡ (RefusedAt 3 9 1)
unfolding computing
random_106 = refl

random_107 : body_verdict (record { predicates = ([]); specs = ((record { is_void = true; name = name_nop; params = ([]); vars = []; pre = (record { opened = []; facts = ([]); locals = []; items = ([]) }); post = (record { opened = []; facts = ([]); locals = []; items = ([]) }) }) ∷ (record { is_void = false; name = name_main; params = ([]); vars = []; pre = (record { opened = []; facts = ([]); locals = []; items = ([]) }); post = (record { opened = []; facts = ((Rel relation.Eq (Var 0 sort.Val) (Of unary.Vi (Number (pos 3)))) ∷ []); locals = []; items = ([]) }) }) ∷ []) }) (record { is_void = false; name = name_main; params = ([]); vars = []; pre = (record { opened = []; facts = ([]); locals = []; items = ([]) }); post = (record { opened = []; facts = ((Rel relation.Eq (Var 0 sort.Val) (Of unary.Vi (Number (pos 3)))) ∷ []); locals = []; items = ([]) }) }) (record { temps = (name_s ∷ name_t ∷ name_i ∷ name_x1 ∷ name_d0 ∷ name_p1 ∷ name_q1 ∷ []); body = (c.Then (c.Set 0 (c.Const 1)) (c.Then (c.Set 1 (c.Const 1)) (c.Then (c.Call None name_nop ([])) (c.Then (c.Return (Some (c.Binary two.Div kind.Signed (c.Const 3) (c.Const 1)))) c.End)))) }) (s.Then 1 (s.Set ([]) ([])) s.NoBlock (s.Then 2 (s.Set ([]) ([])) s.NoBlock (s.Then 3 (s.Call ([]) ([]) ([]) ([])) s.NoBlock (s.Then 4 (s.Call ([]) ([]) ([]) ([])) s.NoBlock (s.Then 5 (s.Return ([]) ([]) ([])) s.NoBlock s.End))))) ≡ (RefusedAt 4 13 1)
unfolding computing
random_107 = refl

random_108 : body_verdict (record { predicates = ([]); specs = ((record { is_void = true; name = name_nop; params = ([]); vars = []; pre = (record { opened = []; facts = ([]); locals = []; items = ([]) }); post = (record { opened = []; facts = ([]); locals = []; items = ([]) }) }) ∷ (record { is_void = false; name = name_main; params = ([]); vars = []; pre = (record { opened = []; facts = ([]); locals = []; items = ([]) }); post = (record { opened = []; facts = ((Rel relation.Eq (Var 0 sort.Val) (Of unary.Vi (Number (pos 3)))) ∷ []); locals = []; items = ([]) }) }) ∷ []) }) (record { is_void = false; name = name_main; params = ([]); vars = []; pre = (record { opened = []; facts = ([]); locals = []; items = ([]) }); post = (record { opened = []; facts = ((Rel relation.Eq (Var 0 sort.Val) (Of unary.Vi (Number (pos 3)))) ∷ []); locals = []; items = ([]) }) }) (record { temps = (name_s ∷ name_t ∷ name_i ∷ name_x1 ∷ name_d0 ∷ name_p1 ∷ name_q1 ∷ []); body = (c.Then (c.Set 0 (c.Const 1)) (c.Then (c.Set 1 (c.Const 1)) (c.Then (c.Call None name_nop ([])) (c.Then (c.Return (Some (c.Binary two.Div kind.Signed (c.Const 3) (c.Const 1)))) c.End)))) }) (s.Then 1 (s.Set ([]) ([])) s.NoBlock (s.Then 2 (s.Set ([]) ([])) s.NoBlock (s.Then 3 (s.Call ((Number (pos 0)) ∷ []) ([]) ([]) ([])) s.NoBlock (s.Then 4 (s.Return ([]) ([]) ([])) s.NoBlock s.End)))) ≡ (RefusedAt 3 13 1)
unfolding computing
random_108 = refl

random_109 : body_verdict (record { predicates = ([]); specs = ((record { is_void = true; name = name_f; params = (name_n0 ∷ []); vars = ((name_a0, sort.Int) ∷ []); pre = (record { opened = []; facts = ((Rel relation.Le (Number (pos 1)) (Var 0 sort.Int)) ∷ (Rel relation.Le (Var 0 sort.Int) (Number (pos 100))) ∷ []); locals = ((name_n0, (Of unary.Vi (Var 0 sort.Int))) ∷ []); items = ([]) }); post = (record { opened = []; facts = ([]); locals = []; items = ([]) }) }) ∷ (record { is_void = false; name = name_main; params = ([]); vars = []; pre = (record { opened = []; facts = ([]); locals = []; items = ([]) }); post = (record { opened = []; facts = ((Rel relation.Eq (Var 0 sort.Val) (Of unary.Vi (Number (pos 0)))) ∷ []); locals = []; items = ([]) }) }) ∷ []) }) (record { is_void = true; name = name_f; params = (name_n0 ∷ []); vars = ((name_a0, sort.Int) ∷ []); pre = (record { opened = []; facts = ((Rel relation.Le (Number (pos 1)) (Var 0 sort.Int)) ∷ (Rel relation.Le (Var 0 sort.Int) (Number (pos 100))) ∷ []); locals = ((name_n0, (Of unary.Vi (Var 0 sort.Int))) ∷ []); items = ([]) }); post = (record { opened = []; facts = ([]); locals = []; items = ([]) }) }) (record { temps = (name_n0 ∷ name_s ∷ name_t ∷ name_i ∷ name_x1 ∷ name_d0 ∷ name_p1 ∷ name_q1 ∷ []); body = (c.Then (c.Set 1 (c.Const 3)) (c.Then (c.Set 2 (c.Const 2)) (c.Then (c.Return None) c.End))) }) (s.Then 1 (s.Set ([]) ([])) s.NoBlock (s.Then 2 (s.Set ([]) ([])) s.NoBlock (s.Then 3 (s.Set ([]) ([])) s.NoBlock (s.Then 4 (s.Return ([]) ([]) ([])) s.NoBlock s.End)))) ≡ (RefusedAt 3 2 1)
unfolding computing
random_109 = refl

random_110 : body_verdict (record { predicates = ([]); specs = ((record { is_void = true; name = name_f; params = (name_n0 ∷ []); vars = ((name_a0, sort.Int) ∷ []); pre = (record { opened = []; facts = ((Rel relation.Le (Number (pos 1)) (Var 0 sort.Int)) ∷ (Rel relation.Le (Var 0 sort.Int) (Number (pos 100))) ∷ []); locals = ((name_n0, (Of unary.Vi (Var 0 sort.Int))) ∷ []); items = ([]) }); post = (record { opened = []; facts = ([]); locals = []; items = ([]) }) }) ∷ (record { is_void = false; name = name_main; params = ([]); vars = []; pre = (record { opened = []; facts = ([]); locals = []; items = ([]) }); post = (record { opened = []; facts = ((Rel relation.Eq (Var 0 sort.Val) (Of unary.Vi (Number (pos 0)))) ∷ []); locals = []; items = ([]) }) }) ∷ []) }) (record { is_void = true; name = name_f; params = (name_n0 ∷ []); vars = ((name_a0, sort.Int) ∷ []); pre = (record { opened = []; facts = ((Rel relation.Le (Number (pos 1)) (Var 0 sort.Int)) ∷ (Rel relation.Le (Var 0 sort.Int) (Number (pos 100))) ∷ []); locals = ((name_n0, (Of unary.Vi (Var 0 sort.Int))) ∷ []); items = ([]) }); post = (record { opened = []; facts = ([]); locals = []; items = ([]) }) }) (record { temps = (name_n0 ∷ name_s ∷ name_t ∷ name_i ∷ name_x1 ∷ name_d0 ∷ name_p1 ∷ name_q1 ∷ []); body = (c.Then (c.Set 1 (c.Const 3)) (c.Then (c.Set 2 (c.Const 2)) (c.Then (c.Set 5 (c.Binary two.Mul kind.Signed (c.Const 1) (c.Const 2))) (c.Then (c.Return None) c.End)))) }) (s.Then 1 (s.Set ([]) ([])) s.NoBlock (s.Then 2 (s.Set ([]) ([])) s.NoBlock (s.Then 3 (s.Return ([]) ([]) ([])) s.NoBlock s.End))) ≡ (RefusedAt 3 9 1)
unfolding computing
random_110 = refl

random_111 : body_verdict (record { predicates = ([]); specs = ((record { is_void = false; name = name_main; params = ([]); vars = []; pre = (record { opened = []; facts = ([]); locals = []; items = ((Data (Number (pos 64)) (Global name_arr) (Of2 binary.Cons (Of unary.Vi (Number (pos 1))) (Of2 binary.Cons (Of unary.Vi (Number (pos 2))) (Of2 binary.Cons (Of unary.Vi (Number (pos 0))) (Of2 binary.Cons (Of unary.Vi (Number (pos 0))) Nil))))) ∷ []) }); post = (record { opened = []; facts = ((Rel relation.Eq (Var 0 sort.Val) (Of unary.Vi (Number (pos 1)))) ∷ []); locals = []; items = ((Data (Number (pos 64)) (Global name_arr) (Of2 binary.Cons (Of unary.Vi (Number (pos 1))) (Of2 binary.Cons (Of unary.Vi (Number (pos 2))) (Of2 binary.Cons (Of unary.Vi (Number (pos 0))) (Of2 binary.Cons (Of unary.Vi (Number (pos 0))) Nil))))) ∷ []) }) }) ∷ []) }) (record { is_void = false; name = name_main; params = ([]); vars = []; pre = (record { opened = []; facts = ([]); locals = []; items = ((Data (Number (pos 64)) (Global name_arr) (Of2 binary.Cons (Of unary.Vi (Number (pos 1))) (Of2 binary.Cons (Of unary.Vi (Number (pos 2))) (Of2 binary.Cons (Of unary.Vi (Number (pos 0))) (Of2 binary.Cons (Of unary.Vi (Number (pos 0))) Nil))))) ∷ []) }); post = (record { opened = []; facts = ((Rel relation.Eq (Var 0 sort.Val) (Of unary.Vi (Number (pos 1)))) ∷ []); locals = []; items = ((Data (Number (pos 64)) (Global name_arr) (Of2 binary.Cons (Of unary.Vi (Number (pos 1))) (Of2 binary.Cons (Of unary.Vi (Number (pos 2))) (Of2 binary.Cons (Of unary.Vi (Number (pos 0))) (Of2 binary.Cons (Of unary.Vi (Number (pos 0))) Nil))))) ∷ []) }) }) (record { temps = (name_s ∷ name_t ∷ name_i ∷ name_x1 ∷ name_d0 ∷ name_p1 ∷ name_q1 ∷ []); body = (c.Then (c.Set 0 (c.Const 1)) (c.Then (c.Set 1 (c.Const 3)) (c.Then (c.Set 3 (c.Binary two.Shl kind.Unsigned (c.Const 1) (c.Const 4))) (c.Then (c.Return (Some (c.Temp 0))) c.End)))) }) (s.Then 1 (s.Set ([]) ([])) s.NoBlock (s.Then 2 (s.Set ([]) ([])) s.NoBlock (s.Then 3 (s.Set ([]) ([])) s.NoBlock (s.Then 4 (s.Set ([]) ([])) s.NoBlock (s.Then 5 (s.Return ([]) ([]) ([])) s.NoBlock s.End))))) ≡ (RefusedAt 4 2 1)
unfolding computing
random_111 = refl

random_112 : body_verdict (record { predicates = ([]); specs = ((record { is_void = false; name = name_main; params = ([]); vars = []; pre = (record { opened = []; facts = ([]); locals = []; items = ((Data (Number (pos 64)) (Global name_arr) (Of2 binary.Cons (Of unary.Vi (Number (pos 1))) (Of2 binary.Cons (Of unary.Vi (Number (pos 2))) (Of2 binary.Cons (Of unary.Vi (Number (pos 0))) (Of2 binary.Cons (Of unary.Vi (Number (pos 0))) Nil))))) ∷ []) }); post = (record { opened = []; facts = ((Rel relation.Eq (Var 0 sort.Val) (Of unary.Vi (Number (pos 1)))) ∷ []); locals = []; items = ((Data (Number (pos 64)) (Global name_arr) (Of2 binary.Cons (Of unary.Vi (Number (pos 1))) (Of2 binary.Cons (Of unary.Vi (Number (pos 2))) (Of2 binary.Cons (Of unary.Vi (Number (pos 0))) (Of2 binary.Cons (Of unary.Vi (Number (pos 0))) Nil))))) ∷ []) }) }) ∷ []) }) (record { is_void = false; name = name_main; params = ([]); vars = []; pre = (record { opened = []; facts = ([]); locals = []; items = ((Data (Number (pos 64)) (Global name_arr) (Of2 binary.Cons (Of unary.Vi (Number (pos 1))) (Of2 binary.Cons (Of unary.Vi (Number (pos 2))) (Of2 binary.Cons (Of unary.Vi (Number (pos 0))) (Of2 binary.Cons (Of unary.Vi (Number (pos 0))) Nil))))) ∷ []) }); post = (record { opened = []; facts = ((Rel relation.Eq (Var 0 sort.Val) (Of unary.Vi (Number (pos 1)))) ∷ []); locals = []; items = ((Data (Number (pos 64)) (Global name_arr) (Of2 binary.Cons (Of unary.Vi (Number (pos 1))) (Of2 binary.Cons (Of unary.Vi (Number (pos 2))) (Of2 binary.Cons (Of unary.Vi (Number (pos 0))) (Of2 binary.Cons (Of unary.Vi (Number (pos 0))) Nil))))) ∷ []) }) }) (record { temps = (name_s ∷ name_t ∷ name_i ∷ name_x1 ∷ name_d0 ∷ name_p1 ∷ name_q1 ∷ []); body = (c.Then (c.Set 0 (c.Const 1)) (c.Then (c.Set 1 (c.Const 3)) (c.Then (c.Set 3 (c.Binary two.Shl kind.Unsigned (c.Const 1) (c.Const 4))) (c.Then (c.Return (Some (c.Temp 0))) c.End)))) }) (s.Then 1 (s.Naming name_zz (Number (pos 1))) s.NoBlock (s.Then 2 (s.Set ([]) ([])) s.NoBlock (s.Then 3 (s.Set ([]) ([])) s.NoBlock (s.Then 4 (s.Return ([]) ([]) ([])) s.NoBlock s.End)))) ≡ (RefusedAt 4 9 1)
unfolding computing
random_112 = refl

random_113 : body_verdict (record { predicates = ([]); specs = ((record { is_void = false; name = name_main; params = ([]); vars = []; pre = (record { opened = []; facts = ([]); locals = []; items = ((Data (Number (pos 64)) (Global name_arr) (Of2 binary.Cons (Of unary.Vi (Number (pos 1))) (Of2 binary.Cons (Of unary.Vi (Number (pos 2))) (Of2 binary.Cons (Of unary.Vi (Number (pos 0))) (Of2 binary.Cons (Of unary.Vi (Number (pos 0))) Nil))))) ∷ []) }); post = (record { opened = []; facts = ((Rel relation.Eq (Var 0 sort.Val) (Of unary.Vi (Number (pos 1)))) ∷ []); locals = []; items = ((Data (Number (pos 64)) (Global name_arr) (Of2 binary.Cons (Of unary.Vi (Number (pos 1))) (Of2 binary.Cons (Of unary.Vi (Number (pos 2))) (Of2 binary.Cons (Of unary.Vi (Number (pos 0))) (Of2 binary.Cons (Of unary.Vi (Number (pos 0))) Nil))))) ∷ []) }) }) ∷ []) }) (record { is_void = false; name = name_main; params = ([]); vars = []; pre = (record { opened = []; facts = ([]); locals = []; items = ((Data (Number (pos 64)) (Global name_arr) (Of2 binary.Cons (Of unary.Vi (Number (pos 1))) (Of2 binary.Cons (Of unary.Vi (Number (pos 2))) (Of2 binary.Cons (Of unary.Vi (Number (pos 0))) (Of2 binary.Cons (Of unary.Vi (Number (pos 0))) Nil))))) ∷ []) }); post = (record { opened = []; facts = ((Rel relation.Eq (Var 0 sort.Val) (Of unary.Vi (Number (pos 1)))) ∷ []); locals = []; items = ((Data (Number (pos 64)) (Global name_arr) (Of2 binary.Cons (Of unary.Vi (Number (pos 1))) (Of2 binary.Cons (Of unary.Vi (Number (pos 2))) (Of2 binary.Cons (Of unary.Vi (Number (pos 0))) (Of2 binary.Cons (Of unary.Vi (Number (pos 0))) Nil))))) ∷ []) }) }) (record { temps = (name_s ∷ name_t ∷ name_i ∷ name_x1 ∷ name_d0 ∷ name_p1 ∷ name_q1 ∷ []); body = (c.Then (c.Set 0 (c.Const 1)) (c.Then (c.Set 1 (c.Const 3)) (c.Then (c.Set 3 (c.Binary two.Shl kind.Unsigned (c.Const 1) (c.Const 4))) (c.Then (c.Return (Some (c.Temp 0))) c.End)))) }) (s.Then 1 (s.Set ([]) ([])) s.NoBlock (s.Then 2 (s.Set ([]) ([])) s.NoBlock (s.Then 3 (s.Return ([]) ([]) ([])) s.NoBlock s.End))) ≡ (RefusedAt 3 9 1)
unfolding computing
random_113 = refl

random_114 : body_verdict (record { predicates = ([]); specs = ((record { is_void = false; name = name_main; params = ([]); vars = []; pre = (record { opened = []; facts = ([]); locals = []; items = ((Data (Number (pos 64)) (Global name_arr) (Of2 binary.Cons (Of unary.Vi (Number (pos 1))) (Of2 binary.Cons (Of unary.Vi (Number (pos 2))) (Of2 binary.Cons (Of unary.Vi (Number (pos 0))) (Of2 binary.Cons (Of unary.Vi (Number (pos 1))) Nil))))) ∷ []) }); post = (record { opened = []; facts = ((Rel relation.Eq (Var 0 sort.Val) (Of unary.Vi (Number (pos 1)))) ∷ []); locals = []; items = ((Data (Number (pos 64)) (Global name_arr) (Of2 binary.Cons (Of unary.Vi (Number (pos 1))) (Of2 binary.Cons (Of unary.Vi (Number (pos 2))) (Of2 binary.Cons (Of unary.Vi (Number (pos 0))) (Of2 binary.Cons (Of unary.Vi (Number (pos 0))) Nil))))) ∷ []) }) }) ∷ []) }) (record { is_void = false; name = name_main; params = ([]); vars = []; pre = (record { opened = []; facts = ([]); locals = []; items = ((Data (Number (pos 64)) (Global name_arr) (Of2 binary.Cons (Of unary.Vi (Number (pos 1))) (Of2 binary.Cons (Of unary.Vi (Number (pos 2))) (Of2 binary.Cons (Of unary.Vi (Number (pos 0))) (Of2 binary.Cons (Of unary.Vi (Number (pos 1))) Nil))))) ∷ []) }); post = (record { opened = []; facts = ((Rel relation.Eq (Var 0 sort.Val) (Of unary.Vi (Number (pos 1)))) ∷ []); locals = []; items = ((Data (Number (pos 64)) (Global name_arr) (Of2 binary.Cons (Of unary.Vi (Number (pos 1))) (Of2 binary.Cons (Of unary.Vi (Number (pos 2))) (Of2 binary.Cons (Of unary.Vi (Number (pos 0))) (Of2 binary.Cons (Of unary.Vi (Number (pos 0))) Nil))))) ∷ []) }) }) (record { temps = (name_s ∷ name_t ∷ name_i ∷ name_x1 ∷ name_d0 ∷ name_p1 ∷ name_q1 ∷ []); body = (c.Then (c.Set 0 (c.Const 1)) (c.Then (c.Set 1 (c.Const 3)) (c.Then (c.Set 3 (c.Binary two.Shl kind.Unsigned (c.Const 1) (c.Const 4))) (c.Then (c.Return (Some (c.Temp 0))) c.End)))) }) (s.Then 1 (s.Set ([]) ([])) s.NoBlock (s.Then 2 (s.Set ([]) ([])) s.NoBlock (s.Then 3 (s.Set ([]) ([])) s.NoBlock (s.Then 4 (s.Return ([]) ([]) ([])) s.NoBlock s.End)))) ≡ (RefusedAt 4 9 5)
unfolding computing
random_114 = refl

random_115 : body_verdict (record { predicates = ([]); specs = ((record { is_void = false; name = name_main; params = ([]); vars = []; pre = (record { opened = []; facts = ([]); locals = []; items = ((Data (Number (pos 64)) (Global name_arr) (Of2 binary.Cons (Of unary.Vi (Number (pos 1))) (Of2 binary.Cons (Of unary.Vi (Number (pos 2))) (Of2 binary.Cons (Of unary.Vi (Number (pos 0))) (Of2 binary.Cons (Of unary.Vi (Number (pos 0))) Nil))))) ∷ []) }); post = (record { opened = []; facts = ((Rel relation.Eq (Var 0 sort.Val) (Of unary.Vi (Number (pos 1)))) ∷ []); locals = []; items = ((Data (Number (pos 64)) (Global name_arr) (Of2 binary.Cons (Of unary.Vi (Number (pos 1))) (Of2 binary.Cons (Of unary.Vi (Number (pos 2))) (Of2 binary.Cons (Of unary.Vi (Number (pos 0))) (Of2 binary.Cons (Of unary.Vi (Number (pos 0))) Nil))))) ∷ []) }) }) ∷ []) }) (record { is_void = false; name = name_main; params = ([]); vars = []; pre = (record { opened = []; facts = ([]); locals = []; items = ((Data (Number (pos 64)) (Global name_arr) (Of2 binary.Cons (Of unary.Vi (Number (pos 1))) (Of2 binary.Cons (Of unary.Vi (Number (pos 2))) (Of2 binary.Cons (Of unary.Vi (Number (pos 0))) (Of2 binary.Cons (Of unary.Vi (Number (pos 0))) Nil))))) ∷ []) }); post = (record { opened = []; facts = ((Rel relation.Eq (Var 0 sort.Val) (Of unary.Vi (Number (pos 1)))) ∷ []); locals = []; items = ((Data (Number (pos 64)) (Global name_arr) (Of2 binary.Cons (Of unary.Vi (Number (pos 1))) (Of2 binary.Cons (Of unary.Vi (Number (pos 2))) (Of2 binary.Cons (Of unary.Vi (Number (pos 0))) (Of2 binary.Cons (Of unary.Vi (Number (pos 0))) Nil))))) ∷ []) }) }) (record { temps = (name_s ∷ name_t ∷ name_i ∷ name_x1 ∷ name_d0 ∷ name_p1 ∷ name_q1 ∷ []); body = (c.Then (c.Set 0 (c.Const 1)) (c.Then (c.Set 1 (c.Const 3)) (c.Then (c.Set 3 (c.Binary two.Shl kind.Unsigned (c.Const 1) (c.Const 4))) (c.Then (c.Return (Some (c.Temp 0))) c.End)))) }) (s.Then 1 (s.Set ([]) ([])) s.NoBlock (s.Then 2 (s.Set ([]) ([])) s.NoBlock (s.Then 3 (s.Set ([]) ([])) s.NoBlock s.End))) ≡ (RefusedAt 4 0 10)
unfolding computing
random_115 = refl

random_116 : body_verdict (record { predicates = ([]); specs = ((record { is_void = false; name = name_main; params = ([]); vars = []; pre = (record { opened = []; facts = ([]); locals = []; items = ((Data (Number (pos 64)) (Global name_arr) (Of2 binary.Cons (Of unary.Vi (Number (pos 1))) (Of2 binary.Cons (Of unary.Vi (Number (pos 2))) (Of2 binary.Cons (Of unary.Vi (Number (pos 0))) (Of2 binary.Cons (Of unary.Vi (Number (pos 0))) Nil))))) ∷ []) }); post = (record { opened = []; facts = ((Rel relation.Eq (Var 0 sort.Val) (Of unary.Vi (Number (pos 1)))) ∷ []); locals = []; items = ((Data (Number (pos 64)) (Global name_arr) (Of2 binary.Cons (Of unary.Vi (Number (pos 1))) (Of2 binary.Cons (Of unary.Vi (Number (pos 2))) (Of2 binary.Cons (Of unary.Vi (Number (pos 0))) (Of2 binary.Cons (Of unary.Vi (Number (pos 0))) Nil))))) ∷ []) }) }) ∷ []) }) (record { is_void = false; name = name_main; params = ([]); vars = []; pre = (record { opened = []; facts = ([]); locals = []; items = ((Data (Number (pos 64)) (Global name_arr) (Of2 binary.Cons (Of unary.Vi (Number (pos 1))) (Of2 binary.Cons (Of unary.Vi (Number (pos 2))) (Of2 binary.Cons (Of unary.Vi (Number (pos 0))) (Of2 binary.Cons (Of unary.Vi (Number (pos 0))) Nil))))) ∷ []) }); post = (record { opened = []; facts = ((Rel relation.Eq (Var 0 sort.Val) (Of unary.Vi (Number (pos 1)))) ∷ []); locals = []; items = ((Data (Number (pos 64)) (Global name_arr) (Of2 binary.Cons (Of unary.Vi (Number (pos 1))) (Of2 binary.Cons (Of unary.Vi (Number (pos 2))) (Of2 binary.Cons (Of unary.Vi (Number (pos 0))) (Of2 binary.Cons (Of unary.Vi (Number (pos 0))) Nil))))) ∷ []) }) }) (record { temps = (name_s ∷ name_t ∷ name_i ∷ name_x1 ∷ name_d0 ∷ name_p1 ∷ name_q1 ∷ []); body = (c.Then (c.Set 0 (c.Const 5)) (c.Then (c.Set 1 (c.Const 3)) (c.Then (c.Set 3 (c.Binary two.Shl kind.Unsigned (c.Const 1) (c.Const 4))) (c.Then (c.Return (Some (c.Temp 0))) c.End)))) }) (s.Then 1 (s.Set ([]) ([])) s.NoBlock (s.Then 2 (s.Set ([]) ([])) s.NoBlock (s.Then 3 (s.Set ([]) ([])) s.NoBlock (s.Then 4 (s.Return ([]) ([]) ([])) s.NoBlock s.End)))) ≡ (RefusedAt 4 9 3)
unfolding computing
random_116 = refl

random_117 : body_verdict (record { predicates = ([]); specs = ((record { is_void = false; name = name_main; params = ([]); vars = []; pre = (record { opened = []; facts = ([]); locals = []; items = ((Data (Number (pos 64)) (Global name_arr) (Of2 binary.Cons (Of unary.Vi (Number (pos 1))) (Of2 binary.Cons (Of unary.Vi (Number (pos 2))) (Of2 binary.Cons (Of unary.Vi (Number (pos 0))) (Of2 binary.Cons (Of unary.Vi (Number (pos 0))) Nil))))) ∷ []) }); post = (record { opened = []; facts = ((Rel relation.Eq (Var 0 sort.Val) (Of unary.Vi (Number (pos 1)))) ∷ []); locals = []; items = ((Data (Number (pos 64)) (Global name_arr) (Of2 binary.Cons (Of unary.Vi (Number (pos 1))) (Of2 binary.Cons (Of unary.Vi (Number (pos 2))) (Of2 binary.Cons (Of unary.Vi (Number (pos 0))) (Of2 binary.Cons (Of unary.Vi (Number (pos 0))) Nil))))) ∷ []) }) }) ∷ []) }) (record { is_void = false; name = name_main; params = ([]); vars = []; pre = (record { opened = []; facts = ([]); locals = []; items = ((Data (Number (pos 64)) (Global name_arr) (Of2 binary.Cons (Of unary.Vi (Number (pos 1))) (Of2 binary.Cons (Of unary.Vi (Number (pos 2))) (Of2 binary.Cons (Of unary.Vi (Number (pos 0))) (Of2 binary.Cons (Of unary.Vi (Number (pos 0))) Nil))))) ∷ []) }); post = (record { opened = []; facts = ((Rel relation.Eq (Var 0 sort.Val) (Of unary.Vi (Number (pos 1)))) ∷ []); locals = []; items = ((Data (Number (pos 64)) (Global name_arr) (Of2 binary.Cons (Of unary.Vi (Number (pos 1))) (Of2 binary.Cons (Of unary.Vi (Number (pos 2))) (Of2 binary.Cons (Of unary.Vi (Number (pos 0))) (Of2 binary.Cons (Of unary.Vi (Number (pos 0))) Nil))))) ∷ []) }) }) (record { temps = (name_s ∷ name_t ∷ name_i ∷ name_x1 ∷ name_d0 ∷ name_p1 ∷ name_q1 ∷ []); body = (c.Then (c.Set 0 (c.Const 1)) (c.Then (c.Set 1 (c.Const 3)) (c.Then (c.Set 3 (c.Binary two.Shl kind.Unsigned (c.Const 1) (c.Const 4))) (c.Then (c.Return (Some (c.Temp 0))) c.End)))) }) (s.Then 1 (s.Return ([]) ([]) ([])) s.NoBlock (s.Then 2 (s.Set ([]) ([])) s.NoBlock (s.Then 3 (s.Set ([]) ([])) s.NoBlock (s.Then 4 (s.Set ([]) ([])) s.NoBlock s.End)))) ≡ (RefusedAt 1 9 1)
unfolding computing
random_117 = refl

random_118 : body_verdict (record { predicates = ([]); specs = ((record { is_void = false; name = name_f; params = ([]); vars = []; pre = (record { opened = []; facts = ([]); locals = []; items = ([]) }); post = (record { opened = []; facts = ((Rel relation.Eq (Var 0 sort.Val) (Of unary.Vi (Number (pos 4)))) ∷ []); locals = []; items = ([]) }) }) ∷ (record { is_void = false; name = name_main; params = ([]); vars = []; pre = (record { opened = []; facts = ([]); locals = []; items = ([]) }); post = (record { opened = []; facts = ((Rel relation.Eq (Var 0 sort.Val) (Of unary.Vi (Number (pos 0)))) ∷ []); locals = []; items = ([]) }) }) ∷ []) }) (record { is_void = false; name = name_f; params = ([]); vars = []; pre = (record { opened = []; facts = ([]); locals = []; items = ([]) }); post = (record { opened = []; facts = ((Rel relation.Eq (Var 0 sort.Val) (Of unary.Vi (Number (pos 4)))) ∷ []); locals = []; items = ([]) }) }) (record { temps = (name_s ∷ name_t ∷ name_i ∷ name_x1 ∷ name_d0 ∷ name_p1 ∷ name_q1 ∷ []); body = (c.Then (c.Set 0 (c.Const 3)) (c.Then (c.Set 1 (c.Const 2)) (c.Then (c.Set 0 (c.Binary two.Add kind.Signed (c.Temp 0) (c.Const 1))) (c.Then (c.Return (Some (c.Temp 0))) c.End)))) }) (s.Then 1 s.Skip s.NoBlock (s.Then 2 (s.Set ([]) ([])) s.NoBlock (s.Then 3 (s.Set ([]) ([])) s.NoBlock (s.Then 4 (s.Return ([]) ([]) ([])) s.NoBlock s.End)))) ≡ (RefusedAt 1 1 1)
unfolding computing
random_118 = refl

random_119 : body_verdict (record { predicates = ([]); specs = ((record { is_void = false; name = name_f; params = ([]); vars = []; pre = (record { opened = []; facts = ([]); locals = []; items = ([]) }); post = (record { opened = []; facts = ((Rel relation.Eq (Var 0 sort.Val) (Of unary.Vi (Number (pos 4)))) ∷ []); locals = []; items = ([]) }) }) ∷ (record { is_void = false; name = name_main; params = ([]); vars = []; pre = (record { opened = []; facts = ([]); locals = []; items = ([]) }); post = (record { opened = []; facts = ((Rel relation.Eq (Var 0 sort.Val) (Of unary.Vi (Number (pos 0)))) ∷ []); locals = []; items = ([]) }) }) ∷ []) }) (record { is_void = false; name = name_main; params = ([]); vars = []; pre = (record { opened = []; facts = ([]); locals = []; items = ([]) }); post = (record { opened = []; facts = ((Rel relation.Eq (Var 0 sort.Val) (Of unary.Vi (Number (pos 0)))) ∷ []); locals = []; items = ([]) }) }) (record { temps = ([]); body = (c.Then (c.Return (Some (c.Const 0))) c.End) }) s.End ≡ (RefusedAt 1 0 10)
unfolding computing
random_119 = refl

random_120 : body_verdict (record { predicates = ([]); specs = ((record { is_void = false; name = name_f; params = ([]); vars = []; pre = (record { opened = []; facts = ([]); locals = []; items = ([]) }); post = (record { opened = []; facts = ((Rel relation.Eq (Var 0 sort.Val) (Of unary.Vi (Number (pos 4)))) ∷ []); locals = []; items = ([]) }) }) ∷ (record { is_void = false; name = name_main; params = ([]); vars = []; pre = (record { opened = []; facts = ([]); locals = []; items = ([]) }); post = (record { opened = []; facts = ((Rel relation.Eq (Var 0 sort.Val) (Of unary.Vi (Number (pos 0)))) ∷ []); locals = []; items = ([]) }) }) ∷ []) }) (record { is_void = false; name = name_f; params = ([]); vars = []; pre = (record { opened = []; facts = ([]); locals = []; items = ([]) }); post = (record { opened = []; facts = ((Rel relation.Eq (Var 0 sort.Val) (Of unary.Vi (Number (pos 4)))) ∷ []); locals = []; items = ([]) }) }) (record { temps = (name_s ∷ name_t ∷ name_i ∷ name_x1 ∷ name_d0 ∷ name_p1 ∷ name_q1 ∷ []); body = (c.Then (c.Set 0 (c.Const 3)) (c.Then (c.Set 1 (c.Const 2)) (c.Then (c.Set 0 (c.Binary two.Add kind.Signed (c.Temp 0) (c.Const 1))) (c.Then (c.Return (Some (c.Temp 0))) c.End)))) }) (s.Then 1 (s.Set ([]) ([])) s.NoBlock (s.Then 2 (s.Set ([]) ([])) s.NoBlock (s.Then 3 (s.Return ([]) ([]) ([])) s.NoBlock s.End))) ≡ (RefusedAt 3 9 1)
unfolding computing
random_120 = refl

random_121 : body_verdict (record { predicates = ([]); specs = ((record { is_void = false; name = name_f; params = ([]); vars = []; pre = (record { opened = []; facts = ([]); locals = []; items = ([]) }); post = (record { opened = []; facts = ((Rel relation.Eq (Var 0 sort.Val) (Of unary.Vi (Number (pos 4)))) ∷ []); locals = []; items = ([]) }) }) ∷ (record { is_void = false; name = name_main; params = ([]); vars = []; pre = (record { opened = []; facts = ([]); locals = []; items = ([]) }); post = (record { opened = []; facts = ((Rel relation.Eq (Var 0 sort.Val) (Of unary.Vi (Number (pos 0)))) ∷ []); locals = []; items = ([]) }) }) ∷ []) }) (record { is_void = false; name = name_main; params = ([]); vars = []; pre = (record { opened = []; facts = ([]); locals = []; items = ([]) }); post = (record { opened = []; facts = ((Rel relation.Eq (Var 0 sort.Val) (Of unary.Vi (Number (pos 0)))) ∷ []); locals = []; items = ([]) }) }) (record { temps = ([]); body = (c.Then (c.Return (Some (c.Const 31))) c.End) }) (s.Then 1 (s.Return ([]) ([]) ([])) s.NoBlock s.End) ≡ (RefusedAt 1 9 3)
unfolding computing
random_121 = refl

random_122 : body_verdict (record { predicates = ([]); specs = ((record { is_void = false; name = name_f; params = ([]); vars = []; pre = (record { opened = []; facts = ([]); locals = []; items = ([]) }); post = (record { opened = []; facts = ((Rel relation.Eq (Var 0 sort.Val) (Of unary.Vi (Number (pos 4)))) ∷ []); locals = []; items = ([]) }) }) ∷ (record { is_void = false; name = name_main; params = ([]); vars = []; pre = (record { opened = []; facts = ([]); locals = []; items = ([]) }); post = (record { opened = []; facts = ((Rel relation.Eq (Var 0 sort.Val) (Of unary.Vi (Number (pos 0)))) ∷ []); locals = []; items = ([]) }) }) ∷ []) }) (record { is_void = false; name = name_f; params = ([]); vars = []; pre = (record { opened = []; facts = ([]); locals = []; items = ([]) }); post = (record { opened = []; facts = ((Rel relation.Eq (Var 0 sort.Val) (Of unary.Vi (Number (pos 4)))) ∷ []); locals = []; items = ([]) }) }) (record { temps = (name_s ∷ name_t ∷ name_i ∷ name_x1 ∷ name_d0 ∷ name_p1 ∷ name_q1 ∷ []); body = (c.Then (c.Set 0 (c.Const 3)) (c.Then (c.Set 1 (c.Const 2)) (c.Then (c.Set 0 (c.Binary two.Add kind.Signed (c.Temp 0) (c.Const 1))) (c.Then (c.Return (Some (c.Temp 0))) c.End)))) }) (s.Then 1 (s.Set ([]) ([])) s.NoBlock (s.Then 2 (s.Set ([]) ([])) s.NoBlock (s.Then 3 (s.Set ([]) ([])) s.NoBlock (s.Then 4 (s.Return (Undef ∷ []) ([]) ([])) s.NoBlock s.End)))) ≡ (RefusedAt 4 9 1)
unfolding computing
random_122 = refl

random_123 : body_verdict (record { predicates = ([]); specs = ((record { is_void = false; name = name_f; params = ([]); vars = []; pre = (record { opened = []; facts = ([]); locals = []; items = ([]) }); post = (record { opened = []; facts = ((Rel relation.Eq (Var 0 sort.Val) (Of unary.Vi (Number (pos 3)))) ∷ []); locals = []; items = ([]) }) }) ∷ (record { is_void = false; name = name_main; params = ([]); vars = []; pre = (record { opened = []; facts = ([]); locals = []; items = ([]) }); post = (record { opened = []; facts = ((Rel relation.Eq (Var 0 sort.Val) (Of unary.Vi (Number (pos 0)))) ∷ []); locals = []; items = ([]) }) }) ∷ []) }) (record { is_void = false; name = name_f; params = ([]); vars = []; pre = (record { opened = []; facts = ([]); locals = []; items = ([]) }); post = (record { opened = []; facts = ((Rel relation.Eq (Var 0 sort.Val) (Of unary.Vi (Number (pos 3)))) ∷ []); locals = []; items = ([]) }) }) (record { temps = (name_s ∷ name_t ∷ name_i ∷ name_x1 ∷ name_d0 ∷ name_p1 ∷ name_q1 ∷ []); body = (c.Then (c.Set 0 (c.Const 3)) (c.Then (c.Set 1 (c.Const 2)) (c.Then (c.Set 0 (c.Binary two.Add kind.Signed (c.Temp 0) (c.Const 1))) (c.Then (c.Return (Some (c.Temp 0))) c.End)))) }) (s.Then 1 (s.Set ([]) ([])) s.NoBlock (s.Then 2 (s.Set ([]) ([])) s.NoBlock (s.Then 3 (s.Set ([]) ([])) s.NoBlock (s.Then 4 (s.Return ([]) ([]) ([])) s.NoBlock s.End)))) ≡ (RefusedAt 4 9 3)
unfolding computing
random_123 = refl

random_124 : body_verdict (record { predicates = ([]); specs = ((record { is_void = false; name = name_f; params = ([]); vars = []; pre = (record { opened = []; facts = ([]); locals = []; items = ([]) }); post = (record { opened = []; facts = ((Rel relation.Eq (Var 0 sort.Val) (Of unary.Vi (Number (pos 4)))) ∷ []); locals = []; items = ([]) }) }) ∷ (record { is_void = false; name = name_main; params = ([]); vars = []; pre = (record { opened = []; facts = ([]); locals = []; items = ([]) }); post = (record { opened = []; facts = ((Rel relation.Eq (Var 0 sort.Val) (Of unary.Vi (Number (pos 0)))) ∷ []); locals = []; items = ([]) }) }) ∷ []) }) (record { is_void = false; name = name_f; params = ([]); vars = []; pre = (record { opened = []; facts = ([]); locals = []; items = ([]) }); post = (record { opened = []; facts = ((Rel relation.Eq (Var 0 sort.Val) (Of unary.Vi (Number (pos 4)))) ∷ []); locals = []; items = ([]) }) }) (record { temps = (name_s ∷ name_t ∷ name_i ∷ name_x1 ∷ name_d0 ∷ name_p1 ∷ name_q1 ∷ []); body = (c.Then (c.Set 0 (c.Const 3)) (c.Then (c.Set 1 (c.Const 2)) (c.Then (c.Set 0 (c.Binary two.Add kind.Signed (c.Temp 0) (c.Const 1))) (c.Then (c.Return (Some (c.Temp 0))) c.End)))) }) (s.Then 1 (s.Set ([]) ([])) s.NoBlock (s.Then 2 (s.Set ([]) ([])) s.NoBlock (s.Then 3 (s.Set ([]) ([])) s.NoBlock (s.Then 4 (s.Continue ([]) ([])) s.NoBlock s.End)))) ≡ (RefusedAt 4 8 1)
unfolding computing
random_124 = refl

random_125 : body_verdict (record { predicates = ([]); specs = ((record { is_void = false; name = name_f; params = ([]); vars = []; pre = (record { opened = []; facts = ([]); locals = []; items = ([]) }); post = (record { opened = []; facts = ((Rel relation.Eq (Var 0 sort.Val) (Of unary.Vi (Number (pos 4)))) ∷ []); locals = []; items = ([]) }) }) ∷ (record { is_void = false; name = name_main; params = ([]); vars = []; pre = (record { opened = []; facts = ([]); locals = []; items = ([]) }); post = (record { opened = []; facts = ((Rel relation.Eq (Var 0 sort.Val) (Of unary.Vi (Number (pos 0)))) ∷ []); locals = []; items = ([]) }) }) ∷ []) }) (record { is_void = false; name = name_f; params = ([]); vars = []; pre = (record { opened = []; facts = ([]); locals = []; items = ([]) }); post = (record { opened = []; facts = ((Rel relation.Eq (Var 0 sort.Val) (Of unary.Vi (Number (pos 4)))) ∷ []); locals = []; items = ([]) }) }) (record { temps = (name_s ∷ name_t ∷ name_i ∷ name_x1 ∷ name_d0 ∷ name_p1 ∷ name_q1 ∷ []); body = (c.Then (c.Set 0 (c.Const 3)) (c.Then (c.Set 1 (c.Const 2)) (c.Then (c.Set 0 (c.Binary two.Add kind.Signed (c.Temp 0) (c.Const 1))) (c.Then (c.Return (Some (c.Temp 0))) c.End)))) }) (s.Then 1 (s.Block 0 (record { opened = []; facts = ([]); locals = []; items = ([]) }) ([]) ([])) (s.WithBlock s.End s.NoBlock) (s.Then 2 (s.Set ([]) ([])) s.NoBlock (s.Then 3 (s.Set ([]) ([])) s.NoBlock (s.Then 4 (s.Set ([]) ([])) s.NoBlock (s.Then 5 (s.Return ([]) ([]) ([])) s.NoBlock s.End))))) ≡ (RefusedAt 2 0 10)
unfolding computing
random_125 = refl

random_126 : body_verdict (record { predicates = ([]); specs = ((record { is_void = false; name = name_f; params = ([]); vars = []; pre = (record { opened = []; facts = ([]); locals = []; items = ([]) }); post = (record { opened = []; facts = ((Rel relation.Eq (Var 0 sort.Val) (Of unary.Vi (Number (pos 3)))) ∷ []); locals = []; items = ([]) }) }) ∷ (record { is_void = false; name = name_main; params = ([]); vars = []; pre = (record { opened = []; facts = ([]); locals = []; items = ([]) }); post = (record { opened = []; facts = ((Rel relation.Eq (Var 0 sort.Val) (Of unary.Vi (Number (pos 0)))) ∷ []); locals = []; items = ([]) }) }) ∷ []) }) (record { is_void = false; name = name_f; params = ([]); vars = []; pre = (record { opened = []; facts = ([]); locals = []; items = ([]) }); post = (record { opened = []; facts = ((Rel relation.Eq (Var 0 sort.Val) (Of unary.Vi (Number (pos 3)))) ∷ []); locals = []; items = ([]) }) }) (record { temps = (name_s ∷ name_t ∷ name_i ∷ name_x1 ∷ name_d0 ∷ name_p1 ∷ name_q1 ∷ []); body = (c.Then (c.Set 0 (c.Const 0)) (c.Then (c.Set 1 (c.Const 3)) (c.Then (c.Set 0 (c.Const 2)) (c.Then (c.Set 0 (c.Const 3)) (c.Then (c.Set 4 (c.Binary two.Add kind.Signed (c.Temp 0) (c.Const 1))) (c.Then (c.Set 0 (c.Temp 0)) (c.Then (c.Return (Some (c.Temp 0))) c.End))))))) }) (s.Then 1 (s.Pose (record { opened = []; facts = ([]); locals = []; items = ([]) }) ([]) ([])) (s.WithBlock s.End s.NoBlock) (s.Then 2 (s.Set ([]) ([])) s.NoBlock (s.Then 3 (s.Set ([]) ([])) s.NoBlock (s.Then 4 (s.Set ([]) ([])) s.NoBlock (s.Then 5 (s.Set ([]) ([])) s.NoBlock (s.Then 6 (s.Set ([]) ([])) s.NoBlock (s.Then 7 (s.Set ([]) ([])) s.NoBlock (s.Then 8 (s.Return ([]) ([]) ([])) s.NoBlock s.End)))))))) ≡ (RefusedAt 2 0 10)
unfolding computing
random_126 = refl

random_127 : body_verdict (record { predicates = ([]); specs = ((record { is_void = false; name = name_f; params = ([]); vars = []; pre = (record { opened = []; facts = ([]); locals = []; items = ([]) }); post = (record { opened = []; facts = ((Rel relation.Eq (Var 0 sort.Val) (Of unary.Vi (Number (pos 3)))) ∷ []); locals = []; items = ([]) }) }) ∷ (record { is_void = false; name = name_main; params = ([]); vars = []; pre = (record { opened = []; facts = ([]); locals = []; items = ([]) }); post = (record { opened = []; facts = ((Rel relation.Eq (Var 0 sort.Val) (Of unary.Vi (Number (pos 3)))) ∷ []); locals = []; items = ([]) }) }) ∷ []) }) (record { is_void = false; name = name_main; params = ([]); vars = []; pre = (record { opened = []; facts = ([]); locals = []; items = ([]) }); post = (record { opened = []; facts = ((Rel relation.Eq (Var 0 sort.Val) (Of unary.Vi (Number (pos 3)))) ∷ []); locals = []; items = ([]) }) }) (record { temps = ([]); body = (c.Then (c.Return (Some (c.Const 0))) c.End) }) (s.Then 1 (s.Return ([]) ([]) ([])) s.NoBlock s.End) ≡ (RefusedAt 1 9 3)
unfolding computing
random_127 = refl

random_128 : body_verdict (record { predicates = ([]); specs = ((record { is_void = false; name = name_f; params = ([]); vars = []; pre = (record { opened = []; facts = ([]); locals = []; items = ([]) }); post = (record { opened = []; facts = ((Rel relation.Eq (Var 0 sort.Val) (Of unary.Vi (Number (pos 3)))) ∷ []); locals = []; items = ([]) }) }) ∷ (record { is_void = false; name = name_main; params = ([]); vars = []; pre = (record { opened = []; facts = ([]); locals = []; items = ([]) }); post = (record { opened = []; facts = ((Rel relation.Eq (Var 0 sort.Val) (Of unary.Vi (Number (pos 0)))) ∷ []); locals = []; items = ([]) }) }) ∷ []) }) (record { is_void = false; name = name_f; params = ([]); vars = []; pre = (record { opened = []; facts = ([]); locals = []; items = ([]) }); post = (record { opened = []; facts = ((Rel relation.Eq (Var 0 sort.Val) (Of unary.Vi (Number (pos 3)))) ∷ []); locals = []; items = ([]) }) }) (record { temps = (name_s ∷ name_t ∷ name_i ∷ name_x1 ∷ name_d0 ∷ name_p1 ∷ name_q1 ∷ []); body = (c.Then (c.Set 0 (c.Const 0)) (c.Then (c.Set 1 (c.Const 3)) (c.Then (c.Set 0 (c.Const 2)) (c.Then (c.Set 0 (c.Const 3)) (c.Then (c.Set 4 (c.Binary two.Add kind.Signed (c.Temp 0) (c.Const 1))) (c.Then (c.Set 0 (c.Temp 0)) (c.Then (c.Return (Some (c.Temp 0))) c.End))))))) }) (s.Then 1 (s.Pose (record { opened = []; facts = ([]); locals = []; items = ([]) }) ([]) ([])) (s.WithBlock (s.Then 2 (s.Meet ([]) ([])) s.NoBlock s.End) s.NoBlock) (s.Then 3 (s.Set ([]) ([])) s.NoBlock (s.Then 4 (s.Set ([]) ([])) s.NoBlock (s.Then 5 (s.Set ([]) ([])) s.NoBlock (s.Then 6 (s.Set ([]) ([])) s.NoBlock (s.Then 7 (s.Set ([]) ([])) s.NoBlock (s.Then 8 (s.Return ([]) ([]) ([])) s.NoBlock (s.Then 9 (s.Set ([]) ([])) s.NoBlock s.End)))))))) ≡ (RefusedAt 8 9 1)
unfolding computing
random_128 = refl

random_129 : body_verdict (record { predicates = ((record { name = name_iv; args = ([]); cases = ((record { opened = (sort.Int ∷ []); facts = ((Rel relation.Le (Number (pos 0)) (Var 0 sort.Int)) ∷ (Rel relation.Le (Var 0 sort.Int) (Number (pos 50))) ∷ []); locals = []; items = ((Data (Number (pos 64)) (Global name_x) (Of2 binary.Cons (Of unary.Vi (Var 0 sort.Int)) Nil)) ∷ []) }) ∷ []) }) ∷ []); specs = ((record { is_void = false; name = name_main; params = ([]); vars = []; pre = (record { opened = []; facts = ([]); locals = []; items = ((Data (Number (pos 64)) (Global name_x) (Of2 binary.Cons (Of unary.Vi (Number (pos 3))) Nil)) ∷ (Data (Number (pos 64)) (Global name_l) (Of2 binary.Cons (Of unary.Vi (Number (pos 0))) Nil)) ∷ []) }); post = (record { opened = []; facts = ((Rel relation.Eq (Var 0 sort.Val) (Of unary.Vi (Number (pos 2)))) ∷ []); locals = []; items = ((Lock (Number (pos 64)) (Global name_l) (record { name = name_iv; args = ([]) })) ∷ []) }) }) ∷ []) }) (record { is_void = false; name = name_main; params = ([]); vars = []; pre = (record { opened = []; facts = ([]); locals = []; items = ((Data (Number (pos 64)) (Global name_x) (Of2 binary.Cons (Of unary.Vi (Number (pos 3))) Nil)) ∷ (Data (Number (pos 64)) (Global name_l) (Of2 binary.Cons (Of unary.Vi (Number (pos 0))) Nil)) ∷ []) }); post = (record { opened = []; facts = ((Rel relation.Eq (Var 0 sort.Val) (Of unary.Vi (Number (pos 2)))) ∷ []); locals = []; items = ((Lock (Number (pos 64)) (Global name_l) (record { name = name_iv; args = ([]) })) ∷ []) }) }) (record { temps = (name_s ∷ name_t ∷ name_i ∷ name_x1 ∷ name_d0 ∷ name_p1 ∷ name_q1 ∷ []); body = (c.Then (c.Set 0 (c.Const 0)) (c.Then (c.Set 1 (c.Const 2)) (c.Then (c.OnLock lock.Make (c.Address (root.Global name_l 1) c.Here)) (c.Then (c.OnLock lock.Release (c.Address (root.Global name_l 1) c.Here)) (c.Then (c.Set 0 (c.Const 3)) (c.Then (c.Set 3 (c.Binary two.Shl kind.Unsigned (c.Const 1) (c.Const 4))) (c.Then (c.Set 3 (c.Const 7)) (c.Then (c.Set 0 (c.Binary two.Add kind.Signed (c.Const 1) (c.Const 2))) (c.Then (c.Return (Some (c.Temp 1))) c.End))))))))) }) (s.Then 1 (s.Set ([]) ([])) s.NoBlock (s.Then 2 (s.Set ([]) ([])) s.NoBlock (s.Then 3 (s.MakeLock 1 (record { name = name_iv; args = ([]) }) ([]) ([])) s.NoBlock (s.Then 4 (s.Fold name_iv 0 ([]) ((Number (pos 3)) ∷ []) ([])) s.NoBlock (s.Then 5 (s.Release 1 2 ([])) s.NoBlock (s.Then 6 (s.Set ([]) ([])) s.NoBlock (s.Then 7 (s.Break ([]) ([])) s.NoBlock (s.Then 8 (s.Set ([]) ([])) s.NoBlock (s.Then 9 (s.Set ([]) ([])) s.NoBlock (s.Then 10 (s.Set ([]) ([])) s.NoBlock (s.Then 11 (s.Return ([]) ([]) ([])) s.NoBlock s.End))))))))))) ≡ (RefusedAt 7 7 1)
unfolding computing
random_129 = refl

random_130 : body_verdict (record { predicates = ((record { name = name_iv; args = ([]); cases = ((record { opened = (sort.Int ∷ []); facts = ((Rel relation.Le (Number (pos 0)) (Var 0 sort.Int)) ∷ (Rel relation.Le (Var 0 sort.Int) (Number (pos 50))) ∷ []); locals = []; items = ((Data (Number (pos 64)) (Global name_x) (Of2 binary.Cons (Of unary.Vi (Var 0 sort.Int)) Nil)) ∷ []) }) ∷ []) }) ∷ []); specs = ((record { is_void = false; name = name_main; params = ([]); vars = []; pre = (record { opened = []; facts = ([]); locals = []; items = ((Data (Number (pos 64)) (Global name_x) (Of2 binary.Cons (Of unary.Vi (Number (pos 3))) Nil)) ∷ (Data (Number (pos 64)) (Global name_l) (Of2 binary.Cons (Of unary.Vi (Number (pos 0))) Nil)) ∷ []) }); post = (record { opened = []; facts = ((Rel relation.Eq (Var 0 sort.Val) (Of unary.Vi (Number (pos 2)))) ∷ []); locals = []; items = ((Lock (Number (pos 64)) (Global name_l) (record { name = name_iv; args = ([]) })) ∷ []) }) }) ∷ []) }) (record { is_void = false; name = name_main; params = ([]); vars = []; pre = (record { opened = []; facts = ([]); locals = []; items = ((Data (Number (pos 64)) (Global name_x) (Of2 binary.Cons (Of unary.Vi (Number (pos 3))) Nil)) ∷ (Data (Number (pos 64)) (Global name_l) (Of2 binary.Cons (Of unary.Vi (Number (pos 0))) Nil)) ∷ []) }); post = (record { opened = []; facts = ((Rel relation.Eq (Var 0 sort.Val) (Of unary.Vi (Number (pos 2)))) ∷ []); locals = []; items = ((Lock (Number (pos 64)) (Global name_l) (record { name = name_iv; args = ([]) })) ∷ []) }) }) (record { temps = (name_s ∷ name_t ∷ name_i ∷ name_x1 ∷ name_d0 ∷ name_p1 ∷ name_q1 ∷ []); body = (c.Then (c.Set 0 (c.Const 0)) (c.Then (c.Set 1 (c.Const 2)) (c.Then (c.OnLock lock.Make (c.Address (root.Global name_l 1) c.Here)) (c.Then (c.OnLock lock.Release (c.Address (root.Global name_l 1) c.Here)) (c.Then (c.Set 0 (c.Const 3)) (c.Then (c.Set 3 (c.Binary two.Shl kind.Unsigned (c.Const 1) (c.Const 4))) (c.Then (c.Set 3 (c.Const 7)) (c.Then (c.Set 0 (c.Binary two.Add kind.Signed (c.Const 1) (c.Const 2))) (c.Then (c.Return (Some (c.Temp 1))) c.End))))))))) }) (s.Then 1 (s.Set ([]) ([])) s.NoBlock (s.Then 2 (s.MakeLock 1 (record { name = name_iv; args = ([]) }) ([]) ([])) s.NoBlock (s.Then 3 (s.Fold name_iv 0 ([]) ((Number (pos 3)) ∷ []) ([])) s.NoBlock (s.Then 4 (s.Release 1 2 ([])) s.NoBlock (s.Then 5 (s.Set ([]) ([])) s.NoBlock (s.Then 6 (s.Set ([]) ([])) s.NoBlock (s.Then 7 (s.Set ([]) ([])) s.NoBlock (s.Then 8 (s.Set ([]) ([])) s.NoBlock (s.Then 9 (s.Return ([]) ([]) ([])) s.NoBlock s.End))))))))) ≡ (RefusedAt 2 16 1)
unfolding computing
random_130 = refl

random_131 : body_verdict (record { predicates = ((record { name = name_iv; args = ([]); cases = ((record { opened = (sort.Int ∷ []); facts = ((Rel relation.Le (Number (pos 0)) (Var 0 sort.Int)) ∷ (Rel relation.Le (Var 0 sort.Int) (Number (pos 50))) ∷ []); locals = []; items = ((Data (Number (pos 64)) (Global name_x) (Of2 binary.Cons (Of unary.Vi (Var 0 sort.Int)) Nil)) ∷ []) }) ∷ []) }) ∷ []); specs = ((record { is_void = false; name = name_main; params = ([]); vars = []; pre = (record { opened = []; facts = ([]); locals = []; items = ((Data (Number (pos 64)) (Global name_x) (Of2 binary.Cons (Of unary.Vi (Number (pos 3))) Nil)) ∷ (Data (Number (pos 64)) (Global name_l) (Of2 binary.Cons (Of unary.Vi (Number (pos 0))) Nil)) ∷ []) }); post = (record { opened = []; facts = ((Rel relation.Eq (Var 0 sort.Val) (Of unary.Vi (Number (pos 3)))) ∷ []); locals = []; items = ((Lock (Number (pos 64)) (Global name_l) (record { name = name_iv; args = ([]) })) ∷ []) }) }) ∷ []) }) (record { is_void = false; name = name_main; params = ([]); vars = []; pre = (record { opened = []; facts = ([]); locals = []; items = ((Data (Number (pos 64)) (Global name_x) (Of2 binary.Cons (Of unary.Vi (Number (pos 3))) Nil)) ∷ (Data (Number (pos 64)) (Global name_l) (Of2 binary.Cons (Of unary.Vi (Number (pos 0))) Nil)) ∷ []) }); post = (record { opened = []; facts = ((Rel relation.Eq (Var 0 sort.Val) (Of unary.Vi (Number (pos 3)))) ∷ []); locals = []; items = ((Lock (Number (pos 64)) (Global name_l) (record { name = name_iv; args = ([]) })) ∷ []) }) }) (record { temps = (name_s ∷ name_t ∷ name_i ∷ name_x1 ∷ name_d0 ∷ name_p1 ∷ name_q1 ∷ []); body = (c.Then (c.Set 0 (c.Const 0)) (c.Then (c.Set 1 (c.Const 2)) (c.Then (c.OnLock lock.Make (c.Address (root.Global name_l 1) c.Here)) (c.Then (c.OnLock lock.Release (c.Address (root.Global name_l 1) c.Here)) (c.Then (c.Set 0 (c.Const 3)) (c.Then (c.Set 3 (c.Binary two.Shl kind.Unsigned (c.Const 1) (c.Const 4))) (c.Then (c.Set 3 (c.Const 7)) (c.Then (c.Set 0 (c.Binary two.Add kind.Signed (c.Const 1) (c.Const 2))) (c.Then (c.Return (Some (c.Temp 1))) c.End))))))))) }) (s.Then 1 (s.Set ([]) ([])) s.NoBlock (s.Then 2 (s.Set ([]) ([])) s.NoBlock (s.Then 3 (s.MakeLock 1 (record { name = name_iv; args = ([]) }) ([]) ([])) s.NoBlock (s.Then 4 (s.Fold name_iv 0 ([]) ((Number (pos 3)) ∷ []) ([])) s.NoBlock (s.Then 5 (s.Release 1 2 ([])) s.NoBlock (s.Then 6 (s.Set ([]) ([])) s.NoBlock (s.Then 7 (s.Set ([]) ([])) s.NoBlock (s.Then 8 (s.Set ([]) ([])) s.NoBlock (s.Then 9 (s.Set ([]) ([])) s.NoBlock (s.Then 10 (s.Return ([]) ([]) ([])) s.NoBlock s.End)))))))))) ≡ (RefusedAt 10 9 3)
unfolding computing
random_131 = refl

random_132 : body_verdict (record { predicates = ((record { name = name_iv; args = ([]); cases = ((record { opened = (sort.Int ∷ []); facts = ((Rel relation.Le (Number (pos 0)) (Var 0 sort.Int)) ∷ (Rel relation.Le (Var 0 sort.Int) (Number (pos 50))) ∷ []); locals = []; items = ((Data (Number (pos 64)) (Global name_x) (Of2 binary.Cons (Of unary.Vi (Var 0 sort.Int)) Nil)) ∷ []) }) ∷ []) }) ∷ []); specs = ((record { is_void = false; name = name_main; params = ([]); vars = []; pre = (record { opened = []; facts = ([]); locals = []; items = ((Data (Number (pos 64)) (Global name_x) (Of2 binary.Cons (Of unary.Vi (Number (pos 3))) Nil)) ∷ (Data (Number (pos 64)) (Global name_l) (Of2 binary.Cons (Of unary.Vi (Number (pos 0))) Nil)) ∷ []) }); post = (record { opened = []; facts = ((Rel relation.Eq (Var 0 sort.Val) (Of unary.Vi (Number (pos 2)))) ∷ []); locals = []; items = ((Lock (Number (pos 64)) (Global name_l) (record { name = name_iv; args = ([]) })) ∷ []) }) }) ∷ []) }) (record { is_void = false; name = name_main; params = ([]); vars = []; pre = (record { opened = []; facts = ([]); locals = []; items = ((Data (Number (pos 64)) (Global name_x) (Of2 binary.Cons (Of unary.Vi (Number (pos 3))) Nil)) ∷ (Data (Number (pos 64)) (Global name_l) (Of2 binary.Cons (Of unary.Vi (Number (pos 0))) Nil)) ∷ []) }); post = (record { opened = []; facts = ((Rel relation.Eq (Var 0 sort.Val) (Of unary.Vi (Number (pos 2)))) ∷ []); locals = []; items = ((Lock (Number (pos 64)) (Global name_l) (record { name = name_iv; args = ([]) })) ∷ []) }) }) (record { temps = (name_s ∷ name_t ∷ name_i ∷ name_x1 ∷ name_d0 ∷ name_p1 ∷ name_q1 ∷ []); body = (c.Then (c.Set 0 (c.Const 0)) (c.Then (c.Set 1 (c.Const 2)) (c.Then (c.OnLock lock.Make (c.Address (root.Global name_l 1) c.Here)) (c.Then (c.OnLock lock.Release (c.Address (root.Global name_l 1) c.Here)) (c.Then (c.Set 0 (c.Const 3)) (c.Then (c.Set 3 (c.Binary two.Shl kind.Unsigned (c.Const 1) (c.Const 4))) (c.Then (c.Set 3 (c.Const 7)) (c.Then (c.Set 0 (c.Binary two.Add kind.Signed (c.Const 1) (c.Const 2))) (c.Then (c.Return (Some (c.Temp 1))) c.End))))))))) }) (s.Then 1 (s.Set ([]) ([])) s.NoBlock (s.Then 2 (s.Set ([]) ([])) s.NoBlock (s.Then 3 (s.MakeLock 2 (record { name = name_iv; args = ([]) }) ([]) ([])) s.NoBlock (s.Then 4 (s.Fold name_iv 0 ([]) ((Number (pos 3)) ∷ []) ([])) s.NoBlock (s.Then 5 (s.Release 1 2 ([])) s.NoBlock (s.Then 6 (s.Set ([]) ([])) s.NoBlock (s.Then 7 (s.Set ([]) ([])) s.NoBlock (s.Then 8 (s.Set ([]) ([])) s.NoBlock (s.Then 9 (s.Absurd ([])) s.NoBlock (s.Then 10 (s.Return ([]) ([]) ([])) s.NoBlock s.End)))))))))) ≡ (RefusedAt 3 16 1)
unfolding computing
random_132 = refl

random_133 : body_verdict (record { predicates = ((record { name = name_iv; args = ([]); cases = ((record { opened = (sort.Int ∷ []); facts = ((Rel relation.Le (Number (pos 0)) (Var 0 sort.Int)) ∷ (Rel relation.Le (Var 0 sort.Int) (Number (pos 50))) ∷ []); locals = []; items = ((Data (Number (pos 64)) (Global name_x) (Of2 binary.Cons (Of unary.Vi (Var 0 sort.Int)) Nil)) ∷ []) }) ∷ []) }) ∷ []); specs = ((record { is_void = false; name = name_main; params = ([]); vars = []; pre = (record { opened = []; facts = ([]); locals = []; items = ((Data (Number (pos 64)) (Global name_x) (Of2 binary.Cons (Of unary.Vi (Number (pos 3))) Nil)) ∷ (Data (Number (pos 64)) (Global name_l) (Of2 binary.Cons (Of unary.Vi (Number (pos 0))) Nil)) ∷ []) }); post = (record { opened = []; facts = ((Rel relation.Eq (Var 0 sort.Val) (Of unary.Vi (Number (pos 2)))) ∷ []); locals = []; items = ((Lock (Number (pos 64)) (Global name_l) (record { name = name_iv; args = ([]) })) ∷ []) }) }) ∷ []) }) (record { is_void = false; name = name_main; params = ([]); vars = []; pre = (record { opened = []; facts = ([]); locals = []; items = ((Data (Number (pos 64)) (Global name_x) (Of2 binary.Cons (Of unary.Vi (Number (pos 3))) Nil)) ∷ (Data (Number (pos 64)) (Global name_l) (Of2 binary.Cons (Of unary.Vi (Number (pos 0))) Nil)) ∷ []) }); post = (record { opened = []; facts = ((Rel relation.Eq (Var 0 sort.Val) (Of unary.Vi (Number (pos 2)))) ∷ []); locals = []; items = ((Lock (Number (pos 64)) (Global name_l) (record { name = name_iv; args = ([]) })) ∷ []) }) }) (record { temps = (name_s ∷ name_t ∷ name_i ∷ name_x1 ∷ name_d0 ∷ name_p1 ∷ name_q1 ∷ []); body = (c.Then (c.Set 0 (c.Const 0)) (c.Then (c.Set 1 (c.Const 2)) (c.Then (c.OnLock lock.Make (c.Address (root.Global name_l 1) c.Here)) (c.Then (c.OnLock lock.Release (c.Address (root.Global name_l 1) c.Here)) (c.Then (c.Set 0 (c.Const 3)) (c.Then (c.Set 3 (c.Binary two.Shl kind.Unsigned (c.Const 1) (c.Const 4))) (c.Then (c.Set 3 (c.Const 7)) (c.Then (c.Set 0 (c.Binary two.Add kind.Signed (c.Const 1) (c.Const 2))) (c.Then (c.Return (Some (c.Temp 1))) c.End))))))))) }) (s.Then 1 (s.Set ([]) ([])) s.NoBlock (s.Then 2 (s.Set ([]) ([])) s.NoBlock (s.Then 3 (s.MakeLock 1 (record { name = name_iv; args = ([]) }) ([]) ([])) s.NoBlock (s.Then 4 (s.Fold name_iv 0 ([]) ((Number (pos 3)) ∷ []) ([])) s.NoBlock (s.Then 5 (s.Release 1 2 ([])) s.NoBlock (s.Then 6 (s.Continue ([]) ([])) s.NoBlock (s.Then 7 (s.Set ([]) ([])) s.NoBlock (s.Then 8 (s.Set ([]) ([])) s.NoBlock (s.Then 9 (s.Set ([]) ([])) s.NoBlock (s.Then 10 (s.Set ([]) ([])) s.NoBlock (s.Then 11 (s.Return ([]) ([]) ([])) s.NoBlock s.End))))))))))) ≡ (RefusedAt 6 8 1)
unfolding computing
random_133 = refl

random_134 : body_verdict (record { predicates = ((record { name = name_iv; args = ([]); cases = ((record { opened = (sort.Int ∷ []); facts = ((Rel relation.Le (Number (pos 0)) (Var 0 sort.Int)) ∷ (Rel relation.Le (Var 0 sort.Int) (Number (pos 50))) ∷ []); locals = []; items = ((Data (Number (pos 64)) (Global name_x) (Of2 binary.Cons (Of unary.Vi (Var 0 sort.Int)) Nil)) ∷ []) }) ∷ []) }) ∷ []); specs = ((record { is_void = false; name = name_main; params = ([]); vars = []; pre = (record { opened = []; facts = ([]); locals = []; items = ((Data (Number (pos 64)) (Global name_x) (Of2 binary.Cons (Of unary.Vi (Number (pos 3))) Nil)) ∷ (Data (Number (pos 64)) (Global name_l) (Of2 binary.Cons (Of unary.Vi (Number (pos 0))) Nil)) ∷ []) }); post = (record { opened = []; facts = ((Rel relation.Eq (Var 0 sort.Val) (Of unary.Vi (Number (pos 2)))) ∷ []); locals = []; items = ((Lock (Number (pos 64)) (Global name_l) (record { name = name_iv; args = ([]) })) ∷ []) }) }) ∷ []) }) (record { is_void = false; name = name_main; params = ([]); vars = []; pre = (record { opened = []; facts = ([]); locals = []; items = ((Data (Number (pos 64)) (Global name_x) (Of2 binary.Cons (Of unary.Vi (Number (pos 3))) Nil)) ∷ (Data (Number (pos 64)) (Global name_l) (Of2 binary.Cons (Of unary.Vi (Number (pos 0))) Nil)) ∷ []) }); post = (record { opened = []; facts = ((Rel relation.Eq (Var 0 sort.Val) (Of unary.Vi (Number (pos 2)))) ∷ []); locals = []; items = ((Lock (Number (pos 64)) (Global name_l) (record { name = name_iv; args = ([]) })) ∷ []) }) }) (record { temps = (name_s ∷ name_t ∷ name_i ∷ name_x1 ∷ name_d0 ∷ name_p1 ∷ name_q1 ∷ []); body = (c.Then (c.Set 0 (c.Const 0)) (c.Then (c.Set 1 (c.Const 2)) (c.Then (c.OnLock lock.Make (c.Address (root.Global name_l 1) c.Here)) (c.Then (c.OnLock lock.Release (c.Address (root.Global name_l 1) c.Here)) (c.Then (c.Set 0 (c.Const 3)) (c.Then (c.Set 3 (c.Binary two.Shl kind.Unsigned (c.Const 1) (c.Const 4))) (c.Then (c.Set 3 (c.Const 7)) (c.Then (c.Set 0 (c.Binary two.Add kind.Signed (c.Const 1) (c.Const 2))) (c.Then (c.Return (Some (c.Temp 1))) c.End))))))))) }) (s.Then 1 (s.Set ([]) ([])) s.NoBlock (s.Then 2 (s.Set ([]) ([])) s.NoBlock (s.Then 3 (s.MakeLock 1 (record { name = name_iv; args = ([]) }) ([]) ([])) s.NoBlock (s.Then 4 (s.Fold name_iv 64 ([]) ((Number (pos 3)) ∷ []) ([])) s.NoBlock (s.Then 5 (s.Release 1 2 ([])) s.NoBlock (s.Then 6 (s.Set ([]) ([])) s.NoBlock (s.Then 7 (s.Set ([]) ([])) s.NoBlock (s.Then 8 (s.Set ([]) ([])) s.NoBlock (s.Then 9 (s.Set ([]) ([])) s.NoBlock (s.Then 10 (s.Return ([]) ([]) ([])) s.NoBlock s.End)))))))))) ≡ (RefusedAt 4 21 1)
unfolding computing
random_134 = refl

random_135 : body_verdict (record { predicates = ((record { name = name_E; args = ([]); cases = ((record { opened = []; facts = ([]); locals = []; items = ([]) }) ∷ []) }) ∷ []); specs = ((record { is_void = false; name = name_f; params = (name_p00 ∷ []); vars = ((name_v0, sort.Val) ∷ (name_o0, sort.Int) ∷ []); pre = (record { opened = []; facts = ((Rel relation.Le (Number (pos 0)) (Var 1 sort.Int)) ∷ (Rel relation.Le (Var 1 sort.Int) (Number (pos 20))) ∷ []); locals = ((name_p00, (Var 0 sort.Val)) ∷ []); items = ((Data (Number (pos 64)) (Var 0 sort.Val) (Of2 binary.Cons (Of unary.Vi (Var 1 sort.Int)) Nil)) ∷ []) }); post = (record { opened = []; facts = ((Rel relation.Eq (Var 2 sort.Val) (Of unary.Vi (Number (pos 1)))) ∷ []); locals = []; items = ((Data (Number (pos 64)) (Var 0 sort.Val) (Of2 binary.Cons (Of unary.Vi (Number (pos 0))) Nil)) ∷ []) }) }) ∷ (record { is_void = false; name = name_main; params = ([]); vars = []; pre = (record { opened = []; facts = ([]); locals = []; items = ([]) }); post = (record { opened = []; facts = ((Rel relation.Eq (Var 0 sort.Val) (Of unary.Vi (Number (pos 0)))) ∷ []); locals = []; items = ([]) }) }) ∷ []) }) (record { is_void = false; name = name_f; params = (name_p00 ∷ []); vars = ((name_v0, sort.Val) ∷ (name_o0, sort.Int) ∷ []); pre = (record { opened = []; facts = ((Rel relation.Le (Number (pos 0)) (Var 1 sort.Int)) ∷ (Rel relation.Le (Var 1 sort.Int) (Number (pos 20))) ∷ []); locals = ((name_p00, (Var 0 sort.Val)) ∷ []); items = ((Data (Number (pos 64)) (Var 0 sort.Val) (Of2 binary.Cons (Of unary.Vi (Var 1 sort.Int)) Nil)) ∷ []) }); post = (record { opened = []; facts = ((Rel relation.Eq (Var 2 sort.Val) (Of unary.Vi (Number (pos 1)))) ∷ []); locals = []; items = ((Data (Number (pos 64)) (Var 0 sort.Val) (Of2 binary.Cons (Of unary.Vi (Number (pos 0))) Nil)) ∷ []) }) }) (record { temps = (name_p00 ∷ name_s ∷ name_t ∷ name_i ∷ name_x1 ∷ name_d0 ∷ name_p1 ∷ name_q1 ∷ []); body = (c.Then (c.Set 1 (c.Const 1)) (c.Then (c.Set 2 (c.Const 0)) (c.Then c.Skip (c.Then (c.Store (root.Temp 0) c.Here (c.Temp 2)) (c.Then (c.Return (Some (c.Temp 1))) c.End))))) }) (s.Then 1 (s.Set ([]) ([])) s.NoBlock (s.Then 2 (s.Malloc name_zz ([]) ([])) (s.WithBlock s.End (s.WithBlock s.End s.NoBlock)) (s.Then 3 (s.Set ([]) ([])) s.NoBlock (s.Then 4 s.Skip s.NoBlock (s.Then 5 (s.Store 0 ([]) ([])) s.NoBlock (s.Then 6 (s.Unshare 1 0 ([])) s.NoBlock (s.Then 7 (s.Return ([]) ([]) ([])) s.NoBlock s.End))))))) ≡ (RefusedAt 2 14 1)
unfolding computing
random_135 = refl

random_136 : body_verdict (record { predicates = ((record { name = name_E; args = ([]); cases = ((record { opened = []; facts = ([]); locals = []; items = ([]) }) ∷ []) }) ∷ []); specs = ((record { is_void = false; name = name_f; params = (name_p00 ∷ []); vars = ((name_v0, sort.Val) ∷ (name_o0, sort.Int) ∷ []); pre = (record { opened = []; facts = ((Rel relation.Le (Number (pos 0)) (Var 1 sort.Int)) ∷ (Rel relation.Le (Var 1 sort.Int) (Number (pos 20))) ∷ []); locals = ((name_p00, (Var 0 sort.Val)) ∷ []); items = ((Data (Number (pos 64)) (Var 0 sort.Val) (Of2 binary.Cons (Of unary.Vi (Var 1 sort.Int)) Nil)) ∷ []) }); post = (record { opened = []; facts = ((Rel relation.Eq (Var 2 sort.Val) (Of unary.Vi (Number (pos 1)))) ∷ []); locals = []; items = ((Data (Number (pos 64)) (Var 0 sort.Val) (Of2 binary.Cons (Of unary.Vi (Number (pos 0))) Nil)) ∷ []) }) }) ∷ (record { is_void = false; name = name_main; params = ([]); vars = []; pre = (record { opened = []; facts = ([]); locals = []; items = ([]) }); post = (record { opened = []; facts = ((Rel relation.Eq (Var 0 sort.Val) (Of unary.Vi (Number (pos 0)))) ∷ []); locals = []; items = ([]) }) }) ∷ []) }) (record { is_void = false; name = name_f; params = (name_p00 ∷ []); vars = ((name_v0, sort.Val) ∷ (name_o0, sort.Int) ∷ []); pre = (record { opened = []; facts = ((Rel relation.Le (Number (pos 0)) (Var 1 sort.Int)) ∷ (Rel relation.Le (Var 1 sort.Int) (Number (pos 20))) ∷ []); locals = ((name_p00, (Var 0 sort.Val)) ∷ []); items = ((Data (Number (pos 64)) (Var 0 sort.Val) (Of2 binary.Cons (Of unary.Vi (Var 1 sort.Int)) Nil)) ∷ []) }); post = (record { opened = []; facts = ((Rel relation.Eq (Var 2 sort.Val) (Of unary.Vi (Number (pos 1)))) ∷ []); locals = []; items = ((Data (Number (pos 64)) (Var 0 sort.Val) (Of2 binary.Cons (Of unary.Vi (Number (pos 0))) Nil)) ∷ []) }) }) (record { temps = (name_p00 ∷ name_s ∷ name_t ∷ name_i ∷ name_x1 ∷ name_d0 ∷ name_p1 ∷ name_q1 ∷ []); body = (c.Then (c.Set 1 (c.Const 1)) (c.Then (c.Set 2 (c.Const 1)) (c.Then c.Skip (c.Then (c.Store (root.Temp 0) c.Here (c.Temp 2)) (c.Then (c.Return (Some (c.Temp 1))) c.End))))) }) (s.Then 1 (s.Set ([]) ([])) s.NoBlock (s.Then 2 (s.Share 0 (Number (pos 32)) ([])) s.NoBlock (s.Then 3 (s.Unshare 1 0 ([])) s.NoBlock (s.Then 4 (s.Set ([]) ([])) s.NoBlock (s.Then 5 s.Skip s.NoBlock (s.Then 6 (s.Store 0 ([]) ([])) s.NoBlock (s.Then 7 (s.Return ([]) ([]) ([])) s.NoBlock s.End))))))) ≡ (RefusedAt 7 9 5)
unfolding computing
random_136 = refl

random_137 : body_verdict (record { predicates = ((record { name = name_E; args = ([]); cases = ((record { opened = []; facts = ([]); locals = []; items = ([]) }) ∷ []) }) ∷ []); specs = ((record { is_void = false; name = name_f; params = (name_p00 ∷ []); vars = ((name_v0, sort.Val) ∷ (name_o0, sort.Int) ∷ []); pre = (record { opened = []; facts = ((Rel relation.Le (Number (pos 0)) (Var 1 sort.Int)) ∷ (Rel relation.Le (Var 1 sort.Int) (Number (pos 20))) ∷ []); locals = ((name_p00, (Var 0 sort.Val)) ∷ []); items = ((Data (Number (pos 64)) (Var 0 sort.Val) (Of2 binary.Cons (Of unary.Vi (Var 1 sort.Int)) Nil)) ∷ []) }); post = (record { opened = []; facts = ((Rel relation.Eq (Var 2 sort.Val) (Of unary.Vi (Number (pos 1)))) ∷ []); locals = []; items = ((Data (Number (pos 64)) (Var 0 sort.Val) (Of2 binary.Cons (Of unary.Vi (Number (pos 0))) Nil)) ∷ []) }) }) ∷ (record { is_void = false; name = name_main; params = ([]); vars = []; pre = (record { opened = []; facts = ([]); locals = []; items = ([]) }); post = (record { opened = []; facts = ((Rel relation.Eq (Var 0 sort.Val) (Of unary.Vi (Number (pos 0)))) ∷ []); locals = []; items = ([]) }) }) ∷ []) }) (record { is_void = false; name = name_f; params = (name_p00 ∷ []); vars = ((name_v0, sort.Val) ∷ (name_o0, sort.Int) ∷ []); pre = (record { opened = []; facts = ((Rel relation.Le (Number (pos 0)) (Var 1 sort.Int)) ∷ (Rel relation.Le (Var 1 sort.Int) (Number (pos 20))) ∷ []); locals = ((name_p00, (Var 0 sort.Val)) ∷ []); items = ((Data (Number (pos 64)) (Var 0 sort.Val) (Of2 binary.Cons (Of unary.Vi (Var 1 sort.Int)) Nil)) ∷ []) }); post = (record { opened = []; facts = ((Rel relation.Eq (Var 2 sort.Val) (Of unary.Vi (Number (pos 1)))) ∷ []); locals = []; items = ((Data (Number (pos 64)) (Var 0 sort.Val) (Of2 binary.Cons (Of unary.Vi (Number (pos 0))) Nil)) ∷ []) }) }) (record { temps = (name_p00 ∷ name_s ∷ name_t ∷ name_i ∷ name_x1 ∷ name_d0 ∷ name_p1 ∷ name_q1 ∷ []); body = (c.Then (c.Set 1 (c.Const 1)) (c.Then (c.Set 2 (c.Const 0)) (c.Then c.Skip (c.Then (c.Store (root.Temp 0) c.Here (c.Temp 2)) (c.Then (c.Return (Some (c.Temp 1))) c.End))))) }) (s.Then 1 (s.Set ([]) ([])) s.NoBlock (s.Then 2 (s.Share 0 (Number (pos 1)) ([])) s.NoBlock (s.Then 3 (s.Unshare 1 0 ([])) s.NoBlock (s.Then 4 (s.Set ([]) ([])) s.NoBlock (s.Then 5 s.Skip s.NoBlock (s.Then 6 (s.Store 2 ([]) ([])) s.NoBlock (s.Then 7 (s.Return ([]) ([]) ([])) s.NoBlock s.End))))))) ≡ (RefusedAt 6 4 1)
unfolding computing
random_137 = refl

random_138 : body_verdict (record { predicates = ((record { name = name_E; args = ([]); cases = ((record { opened = []; facts = ([]); locals = []; items = ([]) }) ∷ []) }) ∷ []); specs = ((record { is_void = false; name = name_f; params = (name_p00 ∷ []); vars = ((name_v0, sort.Val) ∷ (name_o0, sort.Int) ∷ []); pre = (record { opened = []; facts = ((Rel relation.Le (Number (pos 0)) (Var 1 sort.Int)) ∷ (Rel relation.Le (Var 1 sort.Int) (Number (pos 20))) ∷ []); locals = ((name_p00, (Var 0 sort.Val)) ∷ []); items = ((Data (Number (pos 64)) (Var 0 sort.Val) (Of2 binary.Cons (Of unary.Vi (Var 1 sort.Int)) Nil)) ∷ []) }); post = (record { opened = []; facts = ((Rel relation.Eq (Var 2 sort.Val) (Of unary.Vi (Number (pos 1)))) ∷ []); locals = []; items = ((Data (Number (pos 64)) (Var 0 sort.Val) (Of2 binary.Cons (Of unary.Vi (Number (pos 0))) Nil)) ∷ []) }) }) ∷ (record { is_void = false; name = name_main; params = ([]); vars = []; pre = (record { opened = []; facts = ([]); locals = []; items = ([]) }); post = (record { opened = []; facts = ((Rel relation.Eq (Var 0 sort.Val) (Of unary.Vi (Number (pos 0)))) ∷ []); locals = []; items = ([]) }) }) ∷ []) }) (record { is_void = false; name = name_f; params = (name_p00 ∷ []); vars = ((name_v0, sort.Val) ∷ (name_o0, sort.Int) ∷ []); pre = (record { opened = []; facts = ((Rel relation.Le (Number (pos 0)) (Var 1 sort.Int)) ∷ (Rel relation.Le (Var 1 sort.Int) (Number (pos 20))) ∷ []); locals = ((name_p00, (Var 0 sort.Val)) ∷ []); items = ((Data (Number (pos 64)) (Var 0 sort.Val) (Of2 binary.Cons (Of unary.Vi (Var 1 sort.Int)) Nil)) ∷ []) }); post = (record { opened = []; facts = ((Rel relation.Eq (Var 2 sort.Val) (Of unary.Vi (Number (pos 1)))) ∷ []); locals = []; items = ((Data (Number (pos 64)) (Var 0 sort.Val) (Of2 binary.Cons (Of unary.Vi (Number (pos 0))) Nil)) ∷ []) }) }) (record { temps = (name_p00 ∷ name_s ∷ name_t ∷ name_i ∷ name_x1 ∷ name_d0 ∷ name_p1 ∷ name_q1 ∷ []); body = (c.Then (c.Set 1 (c.Const 1)) (c.Then (c.Set 2 (c.Const 0)) (c.Then c.Skip (c.Then (c.Store (root.Temp 0) c.Here (c.Temp 2)) (c.Then (c.Return (Some (c.Temp 1))) c.End))))) }) (s.Then 1 (s.Set ([]) ([])) s.NoBlock (s.Then 2 (s.Share 0 (Number (pos 32)) ([])) s.NoBlock (s.Then 3 (s.Unshare 1 0 ([])) s.NoBlock (s.Then 4 (s.Unshare 1 0 ([])) s.NoBlock (s.Then 5 (s.Set ([]) ([])) s.NoBlock (s.Then 6 s.Skip s.NoBlock (s.Then 7 (s.Store 0 ([]) ([])) s.NoBlock (s.Then 8 (s.Return ([]) ([]) ([])) s.NoBlock s.End)))))))) ≡ (RefusedAt 4 32 1)
unfolding computing
random_138 = refl

random_139 : body_verdict (record { predicates = ((record { name = name_E; args = ([]); cases = ((record { opened = []; facts = ([]); locals = []; items = ([]) }) ∷ []) }) ∷ []); specs = ((record { is_void = false; name = name_f; params = (name_p00 ∷ []); vars = ((name_v0, sort.Val) ∷ (name_o0, sort.Int) ∷ []); pre = (record { opened = []; facts = ((Rel relation.Le (Number (pos 0)) (Var 1 sort.Int)) ∷ (Rel relation.Le (Var 1 sort.Int) (Number (pos 20))) ∷ []); locals = ((name_p00, (Var 0 sort.Val)) ∷ []); items = ((Data (Number (pos 64)) (Var 0 sort.Val) (Of2 binary.Cons (Of unary.Vi (Var 1 sort.Int)) Nil)) ∷ []) }); post = (record { opened = []; facts = ((Rel relation.Eq (Var 2 sort.Val) (Of unary.Vi (Number (pos 1)))) ∷ []); locals = []; items = ((Data (Number (pos 64)) (Var 0 sort.Val) (Of2 binary.Cons (Of unary.Vi (Number (pos 0))) Nil)) ∷ []) }) }) ∷ (record { is_void = false; name = name_main; params = ([]); vars = []; pre = (record { opened = []; facts = ([]); locals = []; items = ([]) }); post = (record { opened = []; facts = ((Rel relation.Eq (Var 0 sort.Val) (Of unary.Vi (Number (pos 0)))) ∷ []); locals = []; items = ([]) }) }) ∷ []) }) (record { is_void = false; name = name_f; params = (name_p00 ∷ []); vars = ((name_v0, sort.Val) ∷ (name_o0, sort.Int) ∷ []); pre = (record { opened = []; facts = ((Rel relation.Le (Number (pos 0)) (Var 1 sort.Int)) ∷ (Rel relation.Le (Var 1 sort.Int) (Number (pos 20))) ∷ []); locals = ((name_p00, (Var 0 sort.Val)) ∷ []); items = ((Data (Number (pos 64)) (Var 0 sort.Val) (Of2 binary.Cons (Of unary.Vi (Var 1 sort.Int)) Nil)) ∷ []) }); post = (record { opened = []; facts = ((Rel relation.Eq (Var 2 sort.Val) (Of unary.Vi (Number (pos 1)))) ∷ []); locals = []; items = ((Data (Number (pos 64)) (Var 0 sort.Val) (Of2 binary.Cons (Of unary.Vi (Number (pos 0))) Nil)) ∷ []) }) }) (record { temps = (name_p00 ∷ name_s ∷ name_t ∷ name_i ∷ name_x1 ∷ name_d0 ∷ name_p1 ∷ name_q1 ∷ []); body = (c.Then (c.Set 1 (c.Const 1)) (c.Then (c.Set 2 (c.Const 0)) (c.Then c.Skip (c.Then (c.Store (root.Temp 0) c.Here (c.Temp 2)) (c.Then (c.Return (Some (c.Temp 1))) c.End))))) }) (s.Then 1 (s.Set ([]) ([])) s.NoBlock (s.Then 2 (s.Share 0 (Number (pos 32)) ([])) s.NoBlock (s.Then 3 (s.Unshare 1 0 ([])) s.NoBlock (s.Then 4 (s.Set ([]) ([])) s.NoBlock (s.Then 5 s.Skip s.NoBlock (s.Then 6 (s.Set ([]) ([])) s.NoBlock (s.Then 7 (s.Store 0 ([]) ([])) s.NoBlock (s.Then 8 (s.Return ([]) ([]) ([])) s.NoBlock s.End)))))))) ≡ (RefusedAt 6 2 1)
unfolding computing
random_139 = refl

random_140 : body_verdict (record { predicates = ((record { name = name_E; args = ([]); cases = ((record { opened = []; facts = ([]); locals = []; items = ([]) }) ∷ []) }) ∷ []); specs = ((record { is_void = false; name = name_f; params = (name_p00 ∷ []); vars = ((name_v0, sort.Val) ∷ (name_o0, sort.Int) ∷ []); pre = (record { opened = []; facts = ((Rel relation.Le (Number (pos 0)) (Var 1 sort.Int)) ∷ (Rel relation.Le (Var 1 sort.Int) (Number (pos 20))) ∷ []); locals = ((name_p00, (Var 0 sort.Val)) ∷ []); items = ((Data (Number (pos 64)) (Var 0 sort.Val) (Of2 binary.Cons (Of unary.Vi (Var 1 sort.Int)) Nil)) ∷ []) }); post = (record { opened = []; facts = ((Rel relation.Eq (Var 2 sort.Val) (Of unary.Vi (Number (pos 1)))) ∷ []); locals = []; items = ((Data (Number (pos 64)) (Var 0 sort.Val) (Of2 binary.Cons (Of unary.Vi (Number (pos 0))) Nil)) ∷ []) }) }) ∷ (record { is_void = false; name = name_main; params = ([]); vars = []; pre = (record { opened = []; facts = ([]); locals = []; items = ([]) }); post = (record { opened = []; facts = ((Rel relation.Eq (Var 0 sort.Val) (Of unary.Vi (Number (pos 0)))) ∷ []); locals = []; items = ([]) }) }) ∷ []) }) (record { is_void = false; name = name_f; params = (name_p00 ∷ []); vars = ((name_v0, sort.Val) ∷ (name_o0, sort.Int) ∷ []); pre = (record { opened = []; facts = ((Rel relation.Le (Number (pos 0)) (Var 1 sort.Int)) ∷ (Rel relation.Le (Var 1 sort.Int) (Number (pos 20))) ∷ []); locals = ((name_p00, (Var 0 sort.Val)) ∷ []); items = ((Data (Number (pos 64)) (Var 0 sort.Val) (Of2 binary.Cons (Of unary.Vi (Var 1 sort.Int)) Nil)) ∷ []) }); post = (record { opened = []; facts = ((Rel relation.Eq (Var 2 sort.Val) (Of unary.Vi (Number (pos 1)))) ∷ []); locals = []; items = ((Data (Number (pos 64)) (Var 0 sort.Val) (Of2 binary.Cons (Of unary.Vi (Number (pos 0))) Nil)) ∷ []) }) }) (record { temps = (name_p00 ∷ name_s ∷ name_t ∷ name_i ∷ name_x1 ∷ name_d0 ∷ name_p1 ∷ name_q1 ∷ []); body = (c.Then (c.Set 1 (c.Const 1)) (c.Then (c.Set 2 (c.Const 0)) (c.Then c.Skip (c.Then (c.Store (root.Temp 0) c.Here (c.Temp 2)) (c.Then (c.Return (Some (c.Temp 1))) c.End))))) }) (s.Then 1 (s.Set ([]) ([])) s.NoBlock (s.Then 2 (s.Share 0 (Number (pos 32)) ([])) s.NoBlock (s.Then 3 (s.Unshare 2 0 ([])) s.NoBlock (s.Then 4 (s.Set ([]) ([])) s.NoBlock (s.Then 5 s.Skip s.NoBlock (s.Then 6 (s.Store 0 ([]) ([])) s.NoBlock (s.Then 7 (s.Return ([]) ([]) ([])) s.NoBlock s.End))))))) ≡ (RefusedAt 3 32 1)
unfolding computing
random_140 = refl

random_141 : body_verdict (record { predicates = ((record { name = name_E; args = ([]); cases = ((record { opened = []; facts = ([]); locals = []; items = ([]) }) ∷ []) }) ∷ []); specs = ((record { is_void = false; name = name_f; params = (name_p00 ∷ []); vars = ((name_v0, sort.Val) ∷ (name_o0, sort.Int) ∷ []); pre = (record { opened = []; facts = ((Rel relation.Le (Number (pos 0)) (Var 1 sort.Int)) ∷ (Rel relation.Le (Var 1 sort.Int) (Number (pos 20))) ∷ []); locals = ((name_p00, (Var 0 sort.Val)) ∷ []); items = ((Data (Number (pos 64)) (Var 0 sort.Val) (Of2 binary.Cons (Of unary.Vi (Var 1 sort.Int)) Nil)) ∷ []) }); post = (record { opened = []; facts = ((Rel relation.Eq (Var 2 sort.Val) (Of unary.Vi (Number (pos 1)))) ∷ []); locals = []; items = ((Data (Number (pos 64)) (Var 0 sort.Val) (Of2 binary.Cons (Of unary.Vi (Number (pos 0))) Nil)) ∷ []) }) }) ∷ (record { is_void = false; name = name_main; params = ([]); vars = []; pre = (record { opened = []; facts = ([]); locals = []; items = ([]) }); post = (record { opened = []; facts = ((Rel relation.Eq (Var 0 sort.Val) (Of unary.Vi (Number (pos 0)))) ∷ []); locals = []; items = ([]) }) }) ∷ []) }) (record { is_void = false; name = name_f; params = (name_p00 ∷ []); vars = ((name_v0, sort.Val) ∷ (name_o0, sort.Int) ∷ []); pre = (record { opened = []; facts = ((Rel relation.Le (Number (pos 0)) (Var 1 sort.Int)) ∷ (Rel relation.Le (Var 1 sort.Int) (Number (pos 20))) ∷ []); locals = ((name_p00, (Var 0 sort.Val)) ∷ []); items = ((Data (Number (pos 64)) (Var 0 sort.Val) (Of2 binary.Cons (Of unary.Vi (Var 1 sort.Int)) Nil)) ∷ []) }); post = (record { opened = []; facts = ((Rel relation.Eq (Var 2 sort.Val) (Of unary.Vi (Number (pos 1)))) ∷ []); locals = []; items = ((Data (Number (pos 64)) (Var 0 sort.Val) (Of2 binary.Cons (Of unary.Vi (Number (pos 0))) Nil)) ∷ []) }) }) (record { temps = (name_p00 ∷ name_s ∷ name_t ∷ name_i ∷ name_x1 ∷ name_d0 ∷ name_p1 ∷ name_q1 ∷ []); body = (c.Then (c.Set 1 (c.Const 1)) (c.Then (c.Set 2 (c.Const 0)) (c.Then c.Skip (c.Then (c.Store (root.Temp 0) c.Here (c.Temp 2)) (c.Then (c.Return (Some (c.Temp 1))) c.End))))) }) (s.Then 1 (s.Set ([]) ([])) s.NoBlock (s.Then 2 (s.Share 0 (Number (pos 32)) ([])) s.NoBlock (s.Then 3 (s.Law name_zz ([]) ([])) s.NoBlock (s.Then 4 (s.Set ([]) ([])) s.NoBlock (s.Then 5 s.Skip s.NoBlock (s.Then 6 (s.Store 0 ([]) ([])) s.NoBlock (s.Then 7 (s.Return ([]) ([]) ([])) s.NoBlock s.End))))))) ≡ (RefusedAt 3 26 1)
unfolding computing
random_141 = refl

random_142 : body_verdict (record { predicates = ((record { name = name_E; args = ([]); cases = ((record { opened = []; facts = ([]); locals = []; items = ([]) }) ∷ []) }) ∷ []); specs = ((record { is_void = false; name = name_f; params = (name_p00 ∷ []); vars = ((name_v0, sort.Val) ∷ (name_o0, sort.Int) ∷ []); pre = (record { opened = []; facts = ((Rel relation.Le (Number (pos 0)) (Var 1 sort.Int)) ∷ (Rel relation.Le (Var 1 sort.Int) (Number (pos 20))) ∷ []); locals = ((name_p00, (Var 0 sort.Val)) ∷ []); items = ((Data (Number (pos 64)) (Var 0 sort.Val) (Of2 binary.Cons (Of unary.Vi (Var 1 sort.Int)) Nil)) ∷ []) }); post = (record { opened = []; facts = ((Rel relation.Eq (Var 2 sort.Val) (Of unary.Vi (Number (pos 1)))) ∷ []); locals = []; items = ((Data (Number (pos 64)) (Var 0 sort.Val) (Of2 binary.Cons (Of unary.Vi (Number (pos 0))) Nil)) ∷ []) }) }) ∷ (record { is_void = false; name = name_main; params = ([]); vars = []; pre = (record { opened = []; facts = ([]); locals = []; items = ([]) }); post = (record { opened = []; facts = ((Rel relation.Eq (Var 0 sort.Val) (Of unary.Vi (Number (pos 0)))) ∷ []); locals = []; items = ([]) }) }) ∷ []) }) (record { is_void = false; name = name_f; params = (name_p00 ∷ []); vars = ((name_v0, sort.Val) ∷ (name_o0, sort.Int) ∷ []); pre = (record { opened = []; facts = ((Rel relation.Le (Number (pos 0)) (Var 1 sort.Int)) ∷ (Rel relation.Le (Var 1 sort.Int) (Number (pos 20))) ∷ []); locals = ((name_p00, (Var 0 sort.Val)) ∷ []); items = ((Data (Number (pos 64)) (Var 0 sort.Val) (Of2 binary.Cons (Of unary.Vi (Var 1 sort.Int)) Nil)) ∷ []) }); post = (record { opened = []; facts = ((Rel relation.Eq (Var 2 sort.Val) (Of unary.Vi (Number (pos 1)))) ∷ []); locals = []; items = ((Data (Number (pos 64)) (Var 0 sort.Val) (Of2 binary.Cons (Of unary.Vi (Number (pos 0))) Nil)) ∷ []) }) }) (record { temps = (name_p00 ∷ name_s ∷ name_t ∷ name_i ∷ name_x1 ∷ name_d0 ∷ name_p1 ∷ name_q1 ∷ []); body = (c.Then (c.Set 1 (c.Const 1)) (c.Then (c.Set 2 (c.Const 0)) (c.Then c.Skip (c.Then (c.Store (root.Temp 0) c.Here (c.Temp 2)) (c.Then (c.Return (Some (c.Temp 1))) c.End))))) }) (s.Then 1 (s.Share 0 (Number (pos 32)) ([])) s.NoBlock (s.Then 2 (s.Unshare 1 0 ([])) s.NoBlock (s.Then 3 (s.Set ([]) ([])) s.NoBlock (s.Then 4 s.Skip s.NoBlock (s.Then 5 (s.Store 0 ([]) ([])) s.NoBlock (s.Then 6 (s.Return ([]) ([]) ([])) s.NoBlock s.End)))))) ≡ (RefusedAt 4 1 1)
unfolding computing
random_142 = refl

random_143 : body_verdict (record { predicates = ((record { name = name_E; args = ([]); cases = ((record { opened = []; facts = ([]); locals = []; items = ([]) }) ∷ []) }) ∷ []); specs = ((record { is_void = false; name = name_f; params = (name_p00 ∷ []); vars = ((name_v0, sort.Val) ∷ (name_o0, sort.Int) ∷ []); pre = (record { opened = []; facts = ((Rel relation.Le (Number (pos 0)) (Var 1 sort.Int)) ∷ (Rel relation.Le (Var 1 sort.Int) (Number (pos 20))) ∷ []); locals = ((name_p00, (Var 0 sort.Val)) ∷ []); items = ((Data (Number (pos 64)) (Var 0 sort.Val) (Of2 binary.Cons (Of unary.Vi (Var 1 sort.Int)) Nil)) ∷ []) }); post = (record { opened = []; facts = ((Rel relation.Eq (Var 2 sort.Val) (Of unary.Vi (Number (pos 1)))) ∷ []); locals = []; items = ((Data (Number (pos 64)) (Var 0 sort.Val) (Of2 binary.Cons (Of unary.Vi (Number (pos 0))) Nil)) ∷ []) }) }) ∷ (record { is_void = false; name = name_main; params = ([]); vars = []; pre = (record { opened = []; facts = ([]); locals = []; items = ([]) }); post = (record { opened = []; facts = ((Rel relation.Eq (Var 0 sort.Val) (Of unary.Vi (Number (pos 0)))) ∷ []); locals = []; items = ([]) }) }) ∷ []) }) (record { is_void = false; name = name_f; params = (name_p00 ∷ []); vars = ((name_v0, sort.Val) ∷ (name_o0, sort.Int) ∷ []); pre = (record { opened = []; facts = ((Rel relation.Le (Number (pos 0)) (Var 1 sort.Int)) ∷ (Rel relation.Le (Var 1 sort.Int) (Number (pos 20))) ∷ []); locals = ((name_p00, (Var 0 sort.Val)) ∷ []); items = ((Data (Number (pos 64)) (Var 0 sort.Val) (Of2 binary.Cons (Of unary.Vi (Var 1 sort.Int)) Nil)) ∷ []) }); post = (record { opened = []; facts = ((Rel relation.Eq (Var 2 sort.Val) (Of unary.Vi (Number (pos 1)))) ∷ []); locals = []; items = ((Data (Number (pos 64)) (Var 0 sort.Val) (Of2 binary.Cons (Of unary.Vi (Number (pos 0))) Nil)) ∷ []) }) }) (record { temps = (name_p00 ∷ name_s ∷ name_t ∷ name_i ∷ name_x1 ∷ name_d0 ∷ name_p1 ∷ name_q1 ∷ []); body = (c.Then (c.Set 1 (c.Const 1)) (c.Then (c.Set 2 (c.Const 5)) (c.Then c.Skip (c.Then (c.Store (root.Temp 0) c.Here (c.Temp 2)) (c.Then (c.Return (Some (c.Temp 1))) c.End))))) }) (s.Then 1 (s.Set ([]) ([])) s.NoBlock (s.Then 2 (s.Share 0 (Number (pos 32)) ([])) s.NoBlock (s.Then 3 (s.Unshare 1 0 ([])) s.NoBlock (s.Then 4 (s.Set ([]) ([])) s.NoBlock (s.Then 5 s.Skip s.NoBlock (s.Then 6 (s.Store 0 ([]) ([])) s.NoBlock (s.Then 7 (s.Return ([]) ([]) ([])) s.NoBlock s.End))))))) ≡ (RefusedAt 7 9 5)
unfolding computing
random_143 = refl

random_144 : body_verdict (record { predicates = ([]); specs = ((record { is_void = false; name = name_f; params = (name_r0 ∷ name_n1 ∷ name_u2 ∷ []); vars = ((name_e0, sort.Val) ∷ (name_l0, sort.List) ∷ (name_a1, sort.Int) ∷ (name_b2, sort.Int) ∷ []); pre = (record { opened = []; facts = ((Rel relation.Eq (Of unary.Len (Var 1 sort.List)) (Number (pos 8))) ∷ (Rel relation.Le (Number (pos 0)) (Var 2 sort.Int)) ∷ (Rel relation.Le (Var 2 sort.Int) (Number (pos 1000))) ∷ (Rel relation.Le (Number (pos 0)) (Var 3 sort.Int)) ∷ (Rel relation.Le (Var 3 sort.Int) (Number (pos 4294967295))) ∷ []); locals = ((name_r0, (Var 0 sort.Val)) ∷ (name_n1, (Of unary.Vi (Var 2 sort.Int))) ∷ (name_u2, (Of unary.Vi (Var 3 sort.Int))) ∷ []); items = ((Data (Number (pos 64)) (Var 0 sort.Val) (Var 1 sort.List)) ∷ []) }); post = (record { opened = []; facts = ((Rel relation.Eq (Var 4 sort.Val) (Of unary.Vi (Number (pos 3)))) ∷ []); locals = []; items = ((Data (Number (pos 64)) (Var 0 sort.Val) (Of3 ternary.Upd (Of3 ternary.Upd (Var 1 sort.List) (Number (pos 6)) (Of unary.Vi (Var 2 sort.Int))) (Var 2 sort.Int) (Of unary.Vi (Number (pos 3))))) ∷ []) }) }) ∷ (record { is_void = false; name = name_main; params = ([]); vars = []; pre = (record { opened = []; facts = ([]); locals = []; items = ([]) }); post = (record { opened = []; facts = ((Rel relation.Eq (Var 0 sort.Val) (Of unary.Vi (Number (pos 0)))) ∷ []); locals = []; items = ([]) }) }) ∷ []) }) (record { is_void = false; name = name_f; params = (name_r0 ∷ name_n1 ∷ name_u2 ∷ []); vars = ((name_e0, sort.Val) ∷ (name_l0, sort.List) ∷ (name_a1, sort.Int) ∷ (name_b2, sort.Int) ∷ []); pre = (record { opened = []; facts = ((Rel relation.Eq (Of unary.Len (Var 1 sort.List)) (Number (pos 8))) ∷ (Rel relation.Le (Number (pos 0)) (Var 2 sort.Int)) ∷ (Rel relation.Le (Var 2 sort.Int) (Number (pos 1000))) ∷ (Rel relation.Le (Number (pos 0)) (Var 3 sort.Int)) ∷ (Rel relation.Le (Var 3 sort.Int) (Number (pos 4294967295))) ∷ []); locals = ((name_r0, (Var 0 sort.Val)) ∷ (name_n1, (Of unary.Vi (Var 2 sort.Int))) ∷ (name_u2, (Of unary.Vi (Var 3 sort.Int))) ∷ []); items = ((Data (Number (pos 64)) (Var 0 sort.Val) (Var 1 sort.List)) ∷ []) }); post = (record { opened = []; facts = ((Rel relation.Eq (Var 4 sort.Val) (Of unary.Vi (Number (pos 3)))) ∷ []); locals = []; items = ((Data (Number (pos 64)) (Var 0 sort.Val) (Of3 ternary.Upd (Of3 ternary.Upd (Var 1 sort.List) (Number (pos 6)) (Of unary.Vi (Var 2 sort.Int))) (Var 2 sort.Int) (Of unary.Vi (Number (pos 3))))) ∷ []) }) }) (record { temps = (name_r0 ∷ name_n1 ∷ name_u2 ∷ name_s ∷ name_t ∷ name_i ∷ name_x1 ∷ name_d0 ∷ name_p1 ∷ name_q1 ∷ []); body = (c.Then (c.Set 3 (c.Const 3)) (c.Then (c.Set 4 (c.Const 3)) (c.Then (c.Load 4 (root.Temp 0) (c.Index kind.Signed (c.Const 6) c.Here)) (c.Then (c.Store (root.Temp 0) (c.Index kind.Signed (c.Const 6) c.Here) (c.Temp 1)) (c.Then (c.Load 4 (root.Temp 0) (c.Index kind.Signed (c.Const 6) c.Here)) (c.Then (c.If (c.Nonzero kind.Signed (c.Binary two.Lt kind.Signed (c.Temp 1) (c.Const 8))) (c.Then (c.If (c.Nonzero kind.Signed (c.Binary two.Le kind.Signed (c.Const 0) (c.Temp 1))) (c.Then (c.Store (root.Temp 0) (c.Index kind.Signed (c.Temp 1) c.Here) (c.Temp 3)) c.End) c.End) c.End) c.End) (c.Then (c.Return (Some (c.Temp 3))) c.End))))))) }) (s.Then 1 (s.Set ([]) ([])) s.NoBlock (s.Then 2 (s.Set ([]) ([])) s.NoBlock (s.Then 3 (s.Load 0 ([]) ((record { lines = ((line.Comb (((pos 1), 1) ∷ ((pos 1), 6) ∷ [])) ∷ []) }) ∷ [])) s.NoBlock (s.Then 4 (s.Store 0 ([]) ((record { lines = ((line.Comb (((pos 1), 1) ∷ ((pos 1), 6) ∷ [])) ∷ []) }) ∷ [])) s.NoBlock (s.Then 5 (s.Law name_len_upd ((Named name_l0) ∷ (Number (pos 6)) ∷ (Of unary.Vi (Named name_a1)) ∷ []) ([])) s.NoBlock (s.Then 6 (s.Load 0 ([]) ((record { lines = ((line.Comb (((pos 1), 7) ∷ ((pos 1), 1) ∷ ((pos 1), 8) ∷ [])) ∷ []) }) ∷ [])) s.NoBlock (s.Then 7 (s.If ([]) ((record { lines = ((line.Comb (((pos 1), 2) ∷ ((pos 1), 8) ∷ [])) ∷ []) }) ∷ (record { lines = ((line.Comb (((pos 1), 3) ∷ ((pos 1), 8) ∷ [])) ∷ []) }) ∷ []) ([]) ([])) (s.WithBlock (s.Then 8 (s.If ([]) ((record { lines = ((line.Comb (((pos 1), 2) ∷ ((pos 1), 9) ∷ [])) ∷ []) }) ∷ (record { lines = ((line.Comb (((pos 1), 3) ∷ ((pos 1), 9) ∷ [])) ∷ []) }) ∷ []) ([]) ([])) (s.WithBlock (s.Then 9 (s.Block 0 (record { opened = []; facts = ([]); locals = ((name_r0, (Named name_e0)) ∷ (name_n1, (Of unary.Vi (Named name_a1))) ∷ (name_u2, (Of unary.Vi (Named name_b2))) ∷ (name_s, (Of unary.Vi (Number (pos 3)))) ∷ (name_t, (Of2 binary.Nth (Of3 ternary.Upd (Named name_l0) (Number (pos 6)) (Of unary.Vi (Named name_a1))) (Number (pos 6)))) ∷ []); items = ((Data (Number (pos 64)) (Named name_e0) (Of3 ternary.Upd (Named name_l0) (Number (pos 6)) (Of unary.Vi (Named name_a1)))) ∷ []) }) ([]) ([])) (s.WithBlock (s.Then 10 (s.Fall ([]) ([])) s.NoBlock s.End) s.NoBlock) (s.Then 11 (s.Store 0 ([]) ((record { lines = ((line.Comb (((pos 1), 2) ∷ ((pos 1), 10) ∷ [])) ∷ []) }) ∷ (record { lines = ((line.Comb (((pos 1), 3) ∷ ((pos 1), 10) ∷ [])) ∷ []) }) ∷ (record { lines = ((line.Comb (((pos 1), 1) ∷ ((pos 1), 7) ∷ [])) ∷ (line.Comb (((pos 1), 10) ∷ ((pos 1), 8) ∷ [])) ∷ (line.Comb (((pos 1), 11) ∷ ((pos 1), 12) ∷ [])) ∷ []) }) ∷ [])) s.NoBlock (s.Then 12 (s.Law name_len_upd ((Of3 ternary.Upd (Named name_l0) (Number (pos 6)) (Of unary.Vi (Named name_a1))) ∷ (Named name_a1) ∷ (Of unary.Vi (Number (pos 3))) ∷ []) ([])) s.NoBlock (s.Then 13 (s.Have (Rel relation.Eq (Of unary.Len (Of3 ternary.Upd (Of3 ternary.Upd (Named name_l0) (Number (pos 6)) (Of unary.Vi (Named name_a1))) (Named name_a1) (Of unary.Vi (Number (pos 3))))) (Of unary.Len (Of3 ternary.Upd (Named name_l0) (Number (pos 6)) (Of unary.Vi (Named name_a1))))) ([])) s.NoBlock (s.Then 14 (s.Return ([]) ([]) ([])) s.NoBlock s.End))))) (s.WithBlock (s.Then 15 (s.Absurd ((record { lines = ((line.Comb (((pos 1), 2) ∷ ((pos 1), 9) ∷ [])) ∷ []) }) ∷ [])) s.NoBlock s.End) s.NoBlock)) s.End) (s.WithBlock (s.Then 16 (s.Return ([]) ([]) ([])) s.NoBlock s.End) s.NoBlock)) s.End))))))) ≡ (RefusedAt 16 9 5)
unfolding computing
random_144 = refl

random_145 : body_verdict (record { predicates = ([]); specs = ((record { is_void = false; name = name_f; params = (name_r0 ∷ name_n1 ∷ name_u2 ∷ []); vars = ((name_e0, sort.Val) ∷ (name_l0, sort.List) ∷ (name_a1, sort.Int) ∷ (name_b2, sort.Int) ∷ []); pre = (record { opened = []; facts = ((Rel relation.Eq (Of unary.Len (Var 1 sort.List)) (Number (pos 8))) ∷ (Rel relation.Le (Number (pos 0)) (Var 2 sort.Int)) ∷ (Rel relation.Le (Var 2 sort.Int) (Number (pos 1000))) ∷ (Rel relation.Le (Number (pos 0)) (Var 3 sort.Int)) ∷ (Rel relation.Le (Var 3 sort.Int) (Number (pos 4294967295))) ∷ []); locals = ((name_r0, (Var 0 sort.Val)) ∷ (name_n1, (Of unary.Vi (Var 2 sort.Int))) ∷ (name_u2, (Of unary.Vi (Var 3 sort.Int))) ∷ []); items = ((Data (Number (pos 64)) (Var 0 sort.Val) (Var 1 sort.List)) ∷ []) }); post = (record { opened = []; facts = ((Rel relation.Eq (Var 4 sort.Val) (Of unary.Vi (Number (pos 3)))) ∷ []); locals = []; items = ((Data (Number (pos 64)) (Var 0 sort.Val) (Of3 ternary.Upd (Of3 ternary.Upd (Var 1 sort.List) (Number (pos 6)) (Of unary.Vi (Var 2 sort.Int))) (Var 2 sort.Int) (Of unary.Vi (Number (pos 3))))) ∷ []) }) }) ∷ (record { is_void = false; name = name_main; params = ([]); vars = []; pre = (record { opened = []; facts = ([]); locals = []; items = ([]) }); post = (record { opened = []; facts = ((Rel relation.Eq (Var 0 sort.Val) (Of unary.Vi (Number (pos 0)))) ∷ []); locals = []; items = ([]) }) }) ∷ []) }) (record { is_void = false; name = name_f; params = (name_r0 ∷ name_n1 ∷ name_u2 ∷ []); vars = ((name_e0, sort.Val) ∷ (name_l0, sort.List) ∷ (name_a1, sort.Int) ∷ (name_b2, sort.Int) ∷ []); pre = (record { opened = []; facts = ((Rel relation.Eq (Of unary.Len (Var 1 sort.List)) (Number (pos 8))) ∷ (Rel relation.Le (Number (pos 0)) (Var 2 sort.Int)) ∷ (Rel relation.Le (Var 2 sort.Int) (Number (pos 1000))) ∷ (Rel relation.Le (Number (pos 0)) (Var 3 sort.Int)) ∷ (Rel relation.Le (Var 3 sort.Int) (Number (pos 4294967295))) ∷ []); locals = ((name_r0, (Var 0 sort.Val)) ∷ (name_n1, (Of unary.Vi (Var 2 sort.Int))) ∷ (name_u2, (Of unary.Vi (Var 3 sort.Int))) ∷ []); items = ((Data (Number (pos 64)) (Var 0 sort.Val) (Var 1 sort.List)) ∷ []) }); post = (record { opened = []; facts = ((Rel relation.Eq (Var 4 sort.Val) (Of unary.Vi (Number (pos 3)))) ∷ []); locals = []; items = ((Data (Number (pos 64)) (Var 0 sort.Val) (Of3 ternary.Upd (Of3 ternary.Upd (Var 1 sort.List) (Number (pos 6)) (Of unary.Vi (Var 2 sort.Int))) (Var 2 sort.Int) (Of unary.Vi (Number (pos 3))))) ∷ []) }) }) (record { temps = (name_r0 ∷ name_n1 ∷ name_u2 ∷ name_s ∷ name_t ∷ name_i ∷ name_x1 ∷ name_d0 ∷ name_p1 ∷ name_q1 ∷ []); body = (c.Then (c.Set 3 (c.Const 3)) (c.Then (c.Set 4 (c.Const 3)) (c.Then (c.Load 4 (root.Temp 0) (c.Index kind.Signed (c.Const 6) c.Here)) (c.Then (c.Store (root.Temp 0) (c.Index kind.Signed (c.Const 6) c.Here) (c.Temp 1)) (c.Then (c.Load 4 (root.Temp 0) (c.Index kind.Signed (c.Const 6) c.Here)) (c.Then (c.If (c.Nonzero kind.Signed (c.Binary two.Lt kind.Signed (c.Temp 1) (c.Const 8))) (c.Then (c.If (c.Nonzero kind.Signed (c.Binary two.Le kind.Signed (c.Const 0) (c.Temp 1))) (c.Then (c.Store (root.Temp 0) (c.Index kind.Signed (c.Temp 1) c.Here) (c.Temp 3)) c.End) c.End) c.End) c.End) (c.Then (c.Return (Some (c.Temp 3))) c.End))))))) }) (s.Then 1 (s.Set ([]) ([])) s.NoBlock (s.Then 2 (s.Set ([]) ([])) s.NoBlock (s.Then 3 (s.Load 0 ([]) ((record { lines = ((line.Comb (((pos 1), 1) ∷ ((pos 1), 6) ∷ [])) ∷ []) }) ∷ [])) s.NoBlock (s.Then 4 (s.Store 0 ([]) ((record { lines = ((line.Comb (((pos 1), 1) ∷ ((pos 1), 6) ∷ [])) ∷ []) }) ∷ [])) s.NoBlock (s.Then 5 (s.Law name_len_upd ((Named name_l0) ∷ (Number (pos 6)) ∷ (Of unary.Vi (Named name_a1)) ∷ []) ([])) s.NoBlock (s.Then 6 (s.Load 0 ([]) ((record { lines = ((line.Comb (((pos 1), 7) ∷ ((pos 1), 1) ∷ ((pos 1), 8) ∷ [])) ∷ []) }) ∷ [])) s.NoBlock (s.Then 7 (s.If ([]) ((record { lines = ((line.Comb (((pos 1), 2) ∷ ((pos 1), 8) ∷ [])) ∷ []) }) ∷ (record { lines = ((line.Comb (((pos 1), 3) ∷ ((pos 1), 8) ∷ [])) ∷ []) }) ∷ []) ([]) ([])) (s.WithBlock (s.Then 8 (s.If ([]) ((record { lines = ((line.Comb (((pos 1), 2) ∷ ((pos 1), 9) ∷ [])) ∷ []) }) ∷ (record { lines = ((line.Comb (((pos 1), 3) ∷ ((pos 1), 9) ∷ [])) ∷ []) }) ∷ []) ([]) ([])) (s.WithBlock (s.Then 9 (s.Block 0 (record { opened = []; facts = ([]); locals = ((name_r0, (Named name_e0)) ∷ (name_n1, (Of unary.Vi (Named name_a1))) ∷ (name_u2, (Of unary.Vi (Named name_b2))) ∷ (name_s, (Of unary.Vi (Number (pos 3)))) ∷ (name_t, (Of2 binary.Nth (Of3 ternary.Upd (Named name_l0) (Number (pos 6)) (Of unary.Vi (Named name_a1))) (Number (pos 6)))) ∷ []); items = ((Data (Number (pos 64)) (Named name_e0) (Of3 ternary.Upd (Named name_l0) (Number (pos 6)) (Of unary.Vi (Named name_a1)))) ∷ []) }) ([]) ([])) (s.WithBlock (s.Then 10 (s.Fall ([]) ([])) s.NoBlock s.End) s.NoBlock) (s.Then 11 (s.Store 0 ([]) ((record { lines = ((line.Comb (((pos 1), 2) ∷ ((pos 1), 10) ∷ [])) ∷ []) }) ∷ (record { lines = ((line.Comb (((pos 1), 3) ∷ ((pos 1), 10) ∷ [])) ∷ []) }) ∷ (record { lines = ((line.Comb (((pos 1), 1) ∷ ((pos 1), 7) ∷ [])) ∷ (line.Comb (((pos 1), 10) ∷ ((pos 2), 8) ∷ [])) ∷ (line.Comb (((pos 1), 11) ∷ ((pos 1), 12) ∷ [])) ∷ []) }) ∷ [])) s.NoBlock (s.Then 12 (s.Law name_len_upd ((Of3 ternary.Upd (Named name_l0) (Number (pos 6)) (Of unary.Vi (Named name_a1))) ∷ (Named name_a1) ∷ (Of unary.Vi (Number (pos 3))) ∷ []) ([])) s.NoBlock (s.Then 13 (s.Have (Rel relation.Eq (Of unary.Len (Of3 ternary.Upd (Of3 ternary.Upd (Named name_l0) (Number (pos 6)) (Of unary.Vi (Named name_a1))) (Named name_a1) (Of unary.Vi (Number (pos 3))))) (Of unary.Len (Of3 ternary.Upd (Named name_l0) (Number (pos 6)) (Of unary.Vi (Named name_a1))))) ([])) s.NoBlock (s.Then 14 (s.Return ([]) ([]) ([])) s.NoBlock s.End))))) (s.WithBlock (s.Then 15 (s.Absurd ((record { lines = ((line.Comb (((pos 1), 2) ∷ ((pos 1), 9) ∷ [])) ∷ []) }) ∷ [])) s.NoBlock s.End) s.NoBlock)) s.End) (s.WithBlock (s.Then 16 (s.Return ([]) ([]) ([])) s.NoBlock s.End) s.NoBlock)) s.End))))))) ≡ (RefusedAt 11 4 3)
unfolding computing
random_145 = refl

random_146 : body_verdict (record { predicates = ([]); specs = ((record { is_void = false; name = name_f; params = (name_r0 ∷ name_n1 ∷ name_u2 ∷ []); vars = ((name_e0, sort.Val) ∷ (name_l0, sort.List) ∷ (name_a1, sort.Int) ∷ (name_b2, sort.Int) ∷ []); pre = (record { opened = []; facts = ((Rel relation.Eq (Of unary.Len (Var 1 sort.List)) (Number (pos 8))) ∷ (Rel relation.Le (Number (pos 0)) (Var 2 sort.Int)) ∷ (Rel relation.Le (Var 2 sort.Int) (Number (pos 1000))) ∷ (Rel relation.Le (Number (pos 0)) (Var 3 sort.Int)) ∷ (Rel relation.Le (Var 3 sort.Int) (Number (pos 4294967295))) ∷ []); locals = ((name_r0, (Var 0 sort.Val)) ∷ (name_n1, (Of unary.Vi (Var 2 sort.Int))) ∷ (name_u2, (Of unary.Vi (Var 3 sort.Int))) ∷ []); items = ((Data (Number (pos 64)) (Var 0 sort.Val) (Var 1 sort.List)) ∷ []) }); post = (record { opened = []; facts = ((Rel relation.Eq (Var 4 sort.Val) (Of unary.Vi (Number (pos 3)))) ∷ []); locals = []; items = ((Data (Number (pos 64)) (Var 0 sort.Val) (Of3 ternary.Upd (Of3 ternary.Upd (Var 1 sort.List) (Number (pos 6)) (Of unary.Vi (Var 2 sort.Int))) (Var 2 sort.Int) (Of unary.Vi (Number (pos 3))))) ∷ []) }) }) ∷ (record { is_void = false; name = name_main; params = ([]); vars = []; pre = (record { opened = []; facts = ([]); locals = []; items = ([]) }); post = (record { opened = []; facts = ((Rel relation.Eq (Var 0 sort.Val) (Of unary.Vi (Number (pos 0)))) ∷ []); locals = []; items = ([]) }) }) ∷ []) }) (record { is_void = false; name = name_f; params = (name_r0 ∷ name_n1 ∷ name_u2 ∷ []); vars = ((name_e0, sort.Val) ∷ (name_l0, sort.List) ∷ (name_a1, sort.Int) ∷ (name_b2, sort.Int) ∷ []); pre = (record { opened = []; facts = ((Rel relation.Eq (Of unary.Len (Var 1 sort.List)) (Number (pos 8))) ∷ (Rel relation.Le (Number (pos 0)) (Var 2 sort.Int)) ∷ (Rel relation.Le (Var 2 sort.Int) (Number (pos 1000))) ∷ (Rel relation.Le (Number (pos 0)) (Var 3 sort.Int)) ∷ (Rel relation.Le (Var 3 sort.Int) (Number (pos 4294967295))) ∷ []); locals = ((name_r0, (Var 0 sort.Val)) ∷ (name_n1, (Of unary.Vi (Var 2 sort.Int))) ∷ (name_u2, (Of unary.Vi (Var 3 sort.Int))) ∷ []); items = ((Data (Number (pos 64)) (Var 0 sort.Val) (Var 1 sort.List)) ∷ []) }); post = (record { opened = []; facts = ((Rel relation.Eq (Var 4 sort.Val) (Of unary.Vi (Number (pos 3)))) ∷ []); locals = []; items = ((Data (Number (pos 64)) (Var 0 sort.Val) (Of3 ternary.Upd (Of3 ternary.Upd (Var 1 sort.List) (Number (pos 6)) (Of unary.Vi (Var 2 sort.Int))) (Var 2 sort.Int) (Of unary.Vi (Number (pos 3))))) ∷ []) }) }) (record { temps = (name_r0 ∷ name_n1 ∷ name_u2 ∷ name_s ∷ name_t ∷ name_i ∷ name_x1 ∷ name_d0 ∷ name_p1 ∷ name_q1 ∷ []); body = (c.Then (c.Set 3 (c.Const 3)) (c.Then (c.Set 4 (c.Const 3)) (c.Then (c.Load 4 (root.Temp 0) (c.Index kind.Signed (c.Const 6) c.Here)) (c.Then (c.Store (root.Temp 0) (c.Index kind.Signed (c.Const 6) c.Here) (c.Temp 1)) (c.Then (c.Load 4 (root.Temp 0) (c.Index kind.Signed (c.Const 6) c.Here)) (c.Then (c.If (c.Nonzero kind.Signed (c.Binary two.Lt kind.Signed (c.Temp 1) (c.Const 8))) (c.Then (c.If (c.Nonzero kind.Signed (c.Binary two.Le kind.Signed (c.Const 1) (c.Temp 1))) (c.Then (c.Store (root.Temp 0) (c.Index kind.Signed (c.Temp 1) c.Here) (c.Temp 3)) c.End) c.End) c.End) c.End) (c.Then (c.Return (Some (c.Temp 3))) c.End))))))) }) (s.Then 1 (s.Set ([]) ([])) s.NoBlock (s.Then 2 (s.Set ([]) ([])) s.NoBlock (s.Then 3 (s.Load 0 ([]) ((record { lines = ((line.Comb (((pos 1), 1) ∷ ((pos 1), 6) ∷ [])) ∷ []) }) ∷ [])) s.NoBlock (s.Then 4 (s.Store 0 ([]) ((record { lines = ((line.Comb (((pos 1), 1) ∷ ((pos 1), 6) ∷ [])) ∷ []) }) ∷ [])) s.NoBlock (s.Then 5 (s.Law name_len_upd ((Named name_l0) ∷ (Number (pos 6)) ∷ (Of unary.Vi (Named name_a1)) ∷ []) ([])) s.NoBlock (s.Then 6 (s.Load 0 ([]) ((record { lines = ((line.Comb (((pos 1), 7) ∷ ((pos 1), 1) ∷ ((pos 1), 8) ∷ [])) ∷ []) }) ∷ [])) s.NoBlock (s.Then 7 (s.If ([]) ((record { lines = ((line.Comb (((pos 1), 2) ∷ ((pos 1), 8) ∷ [])) ∷ []) }) ∷ (record { lines = ((line.Comb (((pos 1), 3) ∷ ((pos 1), 8) ∷ [])) ∷ []) }) ∷ []) ([]) ([])) (s.WithBlock (s.Then 8 (s.If ([]) ((record { lines = ((line.Comb (((pos 1), 2) ∷ ((pos 1), 9) ∷ [])) ∷ []) }) ∷ (record { lines = ((line.Comb (((pos 1), 3) ∷ ((pos 1), 9) ∷ [])) ∷ []) }) ∷ []) ([]) ([])) (s.WithBlock (s.Then 9 (s.Block 0 (record { opened = []; facts = ([]); locals = ((name_r0, (Named name_e0)) ∷ (name_n1, (Of unary.Vi (Named name_a1))) ∷ (name_u2, (Of unary.Vi (Named name_b2))) ∷ (name_s, (Of unary.Vi (Number (pos 3)))) ∷ (name_t, (Of2 binary.Nth (Of3 ternary.Upd (Named name_l0) (Number (pos 6)) (Of unary.Vi (Named name_a1))) (Number (pos 6)))) ∷ []); items = ((Data (Number (pos 64)) (Named name_e0) (Of3 ternary.Upd (Named name_l0) (Number (pos 6)) (Of unary.Vi (Named name_a1)))) ∷ []) }) ([]) ([])) (s.WithBlock (s.Then 10 (s.Fall ([]) ([])) s.NoBlock s.End) s.NoBlock) (s.Then 11 (s.Store 0 ([]) ((record { lines = ((line.Comb (((pos 1), 2) ∷ ((pos 1), 10) ∷ [])) ∷ []) }) ∷ (record { lines = ((line.Comb (((pos 1), 3) ∷ ((pos 1), 10) ∷ [])) ∷ []) }) ∷ (record { lines = ((line.Comb (((pos 1), 1) ∷ ((pos 1), 7) ∷ [])) ∷ (line.Comb (((pos 1), 10) ∷ ((pos 1), 8) ∷ [])) ∷ (line.Comb (((pos 1), 11) ∷ ((pos 1), 12) ∷ [])) ∷ []) }) ∷ [])) s.NoBlock (s.Then 12 (s.Law name_len_upd ((Of3 ternary.Upd (Named name_l0) (Number (pos 6)) (Of unary.Vi (Named name_a1))) ∷ (Named name_a1) ∷ (Of unary.Vi (Number (pos 3))) ∷ []) ([])) s.NoBlock (s.Then 13 (s.Have (Rel relation.Eq (Of unary.Len (Of3 ternary.Upd (Of3 ternary.Upd (Named name_l0) (Number (pos 6)) (Of unary.Vi (Named name_a1))) (Named name_a1) (Of unary.Vi (Number (pos 3))))) (Of unary.Len (Of3 ternary.Upd (Named name_l0) (Number (pos 6)) (Of unary.Vi (Named name_a1))))) ([])) s.NoBlock (s.Then 14 (s.Return ([]) ([]) ([])) s.NoBlock s.End))))) (s.WithBlock (s.Then 15 (s.Absurd ((record { lines = ((line.Comb (((pos 1), 2) ∷ ((pos 1), 9) ∷ [])) ∷ []) }) ∷ [])) s.NoBlock s.End) s.NoBlock)) s.End) (s.WithBlock (s.Then 16 (s.Return ([]) ([]) ([])) s.NoBlock s.End) s.NoBlock)) s.End))))))) ≡ (RefusedAt 15 24 3)
unfolding computing
random_146 = refl

random_147 : body_verdict (record { predicates = ([]); specs = ((record { is_void = false; name = name_f; params = (name_r0 ∷ name_n1 ∷ name_u2 ∷ []); vars = ((name_e0, sort.Val) ∷ (name_l0, sort.List) ∷ (name_a1, sort.Int) ∷ (name_b2, sort.Int) ∷ []); pre = (record { opened = []; facts = ((Rel relation.Eq (Of unary.Len (Var 1 sort.List)) (Number (pos 8))) ∷ (Rel relation.Le (Number (pos 0)) (Var 2 sort.Int)) ∷ (Rel relation.Le (Var 2 sort.Int) (Number (pos 1000))) ∷ (Rel relation.Le (Number (pos 0)) (Var 3 sort.Int)) ∷ (Rel relation.Le (Var 3 sort.Int) (Number (pos 4294967295))) ∷ []); locals = ((name_r0, (Var 0 sort.Val)) ∷ (name_n1, (Of unary.Vi (Var 2 sort.Int))) ∷ (name_u2, (Of unary.Vi (Var 3 sort.Int))) ∷ []); items = ((Data (Number (pos 64)) (Var 0 sort.Val) (Var 1 sort.List)) ∷ []) }); post = (record { opened = []; facts = ((Rel relation.Eq (Var 4 sort.Val) (Of unary.Vi (Number (pos 3)))) ∷ []); locals = []; items = ((Data (Number (pos 64)) (Var 0 sort.Val) (Of3 ternary.Upd (Of3 ternary.Upd (Var 1 sort.List) (Number (pos 6)) (Of unary.Vi (Var 2 sort.Int))) (Var 2 sort.Int) (Of unary.Vi (Number (pos 3))))) ∷ []) }) }) ∷ (record { is_void = false; name = name_main; params = ([]); vars = []; pre = (record { opened = []; facts = ([]); locals = []; items = ([]) }); post = (record { opened = []; facts = ((Rel relation.Eq (Var 0 sort.Val) (Of unary.Vi (Number (pos 0)))) ∷ []); locals = []; items = ([]) }) }) ∷ []) }) (record { is_void = false; name = name_f; params = (name_r0 ∷ name_n1 ∷ name_u2 ∷ []); vars = ((name_e0, sort.Val) ∷ (name_l0, sort.List) ∷ (name_a1, sort.Int) ∷ (name_b2, sort.Int) ∷ []); pre = (record { opened = []; facts = ((Rel relation.Eq (Of unary.Len (Var 1 sort.List)) (Number (pos 8))) ∷ (Rel relation.Le (Number (pos 0)) (Var 2 sort.Int)) ∷ (Rel relation.Le (Var 2 sort.Int) (Number (pos 1000))) ∷ (Rel relation.Le (Number (pos 0)) (Var 3 sort.Int)) ∷ (Rel relation.Le (Var 3 sort.Int) (Number (pos 4294967295))) ∷ []); locals = ((name_r0, (Var 0 sort.Val)) ∷ (name_n1, (Of unary.Vi (Var 2 sort.Int))) ∷ (name_u2, (Of unary.Vi (Var 3 sort.Int))) ∷ []); items = ((Data (Number (pos 64)) (Var 0 sort.Val) (Var 1 sort.List)) ∷ []) }); post = (record { opened = []; facts = ((Rel relation.Eq (Var 4 sort.Val) (Of unary.Vi (Number (pos 3)))) ∷ []); locals = []; items = ((Data (Number (pos 64)) (Var 0 sort.Val) (Of3 ternary.Upd (Of3 ternary.Upd (Var 1 sort.List) (Number (pos 6)) (Of unary.Vi (Var 2 sort.Int))) (Var 2 sort.Int) (Of unary.Vi (Number (pos 3))))) ∷ []) }) }) (record { temps = (name_r0 ∷ name_n1 ∷ name_u2 ∷ name_s ∷ name_t ∷ name_i ∷ name_x1 ∷ name_d0 ∷ name_p1 ∷ name_q1 ∷ []); body = (c.Then (c.Set 3 (c.Const 3)) (c.Then (c.Set 4 (c.Const 3)) (c.Then (c.Load 4 (root.Temp 0) (c.Index kind.Signed (c.Const 6) c.Here)) (c.Then (c.Store (root.Temp 0) (c.Index kind.Signed (c.Const 6) c.Here) (c.Temp 1)) (c.Then (c.Load 4 (root.Temp 0) (c.Index kind.Signed (c.Const 6) c.Here)) (c.Then (c.If (c.Nonzero kind.Signed (c.Binary two.Lt kind.Signed (c.Temp 1) (c.Const 8))) (c.Then (c.If (c.Nonzero kind.Signed (c.Binary two.Le kind.Signed (c.Const 0) (c.Temp 1))) (c.Then (c.Return (Some (c.Temp 3))) c.End) c.End) c.End) c.End) (c.Then (c.Return (Some (c.Temp 3))) c.End))))))) }) (s.Then 1 (s.Set ([]) ([])) s.NoBlock (s.Then 2 (s.Set ([]) ([])) s.NoBlock (s.Then 3 (s.Load 0 ([]) ((record { lines = ((line.Comb (((pos 1), 1) ∷ ((pos 1), 6) ∷ [])) ∷ []) }) ∷ [])) s.NoBlock (s.Then 4 (s.Store 0 ([]) ((record { lines = ((line.Comb (((pos 1), 1) ∷ ((pos 1), 6) ∷ [])) ∷ []) }) ∷ [])) s.NoBlock (s.Then 5 (s.Law name_len_upd ((Named name_l0) ∷ (Number (pos 6)) ∷ (Of unary.Vi (Named name_a1)) ∷ []) ([])) s.NoBlock (s.Then 6 (s.Load 0 ([]) ((record { lines = ((line.Comb (((pos 1), 7) ∷ ((pos 1), 1) ∷ ((pos 1), 8) ∷ [])) ∷ []) }) ∷ [])) s.NoBlock (s.Then 7 (s.If ([]) ((record { lines = ((line.Comb (((pos 1), 2) ∷ ((pos 1), 8) ∷ [])) ∷ []) }) ∷ (record { lines = ((line.Comb (((pos 1), 3) ∷ ((pos 1), 8) ∷ [])) ∷ []) }) ∷ []) ([]) ([])) (s.WithBlock (s.Then 8 (s.If ([]) ((record { lines = ((line.Comb (((pos 1), 2) ∷ ((pos 1), 9) ∷ [])) ∷ []) }) ∷ (record { lines = ((line.Comb (((pos 1), 3) ∷ ((pos 1), 9) ∷ [])) ∷ []) }) ∷ []) ([]) ([])) (s.WithBlock (s.Then 9 (s.Block 0 (record { opened = []; facts = ([]); locals = ((name_r0, (Named name_e0)) ∷ (name_n1, (Of unary.Vi (Named name_a1))) ∷ (name_u2, (Of unary.Vi (Named name_b2))) ∷ (name_s, (Of unary.Vi (Number (pos 3)))) ∷ (name_t, (Of2 binary.Nth (Of3 ternary.Upd (Named name_l0) (Number (pos 6)) (Of unary.Vi (Named name_a1))) (Number (pos 6)))) ∷ []); items = ((Data (Number (pos 64)) (Named name_e0) (Of3 ternary.Upd (Named name_l0) (Number (pos 6)) (Of unary.Vi (Named name_a1)))) ∷ []) }) ([]) ([])) (s.WithBlock (s.Then 10 (s.Fall ([]) ([])) s.NoBlock s.End) s.NoBlock) (s.Then 11 (s.Store 0 ([]) ((record { lines = ((line.Comb (((pos 1), 2) ∷ ((pos 1), 0) ∷ [])) ∷ []) }) ∷ (record { lines = ((line.Comb (((pos 1), 3) ∷ ((pos 1), 10) ∷ [])) ∷ []) }) ∷ (record { lines = ((line.Comb (((pos 1), 1) ∷ ((pos 1), 7) ∷ [])) ∷ (line.Comb (((pos 1), 10) ∷ ((pos 1), 8) ∷ [])) ∷ (line.Comb (((pos 1), 11) ∷ ((pos 1), 12) ∷ [])) ∷ []) }) ∷ [])) s.NoBlock (s.Then 12 (s.Law name_len_upd ((Of3 ternary.Upd (Named name_l0) (Number (pos 6)) (Of unary.Vi (Named name_a1))) ∷ (Named name_a1) ∷ (Of unary.Vi (Number (pos 3))) ∷ []) ([])) s.NoBlock (s.Then 13 (s.Have (Rel relation.Eq (Of unary.Len (Of3 ternary.Upd (Of3 ternary.Upd (Named name_l0) (Number (pos 6)) (Of unary.Vi (Named name_a1))) (Named name_a1) (Of unary.Vi (Number (pos 3))))) (Of unary.Len (Of3 ternary.Upd (Named name_l0) (Number (pos 6)) (Of unary.Vi (Named name_a1))))) ([])) s.NoBlock (s.Then 14 (s.Return ([]) ([]) ([])) s.NoBlock s.End))))) (s.WithBlock (s.Then 15 (s.Absurd ((record { lines = ((line.Comb (((pos 1), 2) ∷ ((pos 1), 9) ∷ [])) ∷ []) }) ∷ [])) s.NoBlock s.End) s.NoBlock)) s.End) (s.WithBlock (s.Then 16 (s.Return ([]) ([]) ([])) s.NoBlock s.End) s.NoBlock)) s.End))))))) ≡ (RefusedAt 11 4 1)
unfolding computing
random_147 = refl

random_148 : body_verdict (record { predicates = ([]); specs = ((record { is_void = false; name = name_f; params = (name_r0 ∷ name_n1 ∷ name_u2 ∷ []); vars = ((name_e0, sort.Val) ∷ (name_l0, sort.List) ∷ (name_a1, sort.Int) ∷ (name_b2, sort.Int) ∷ []); pre = (record { opened = []; facts = ((Rel relation.Eq (Of unary.Len (Var 1 sort.List)) (Number (pos 8))) ∷ (Rel relation.Le (Number (pos 0)) (Var 2 sort.Int)) ∷ (Rel relation.Le (Var 2 sort.Int) (Number (pos 1000))) ∷ (Rel relation.Le (Number (pos 0)) (Var 3 sort.Int)) ∷ (Rel relation.Le (Var 3 sort.Int) (Number (pos 4294967295))) ∷ []); locals = ((name_r0, (Var 0 sort.Val)) ∷ (name_n1, (Of unary.Vi (Var 2 sort.Int))) ∷ (name_u2, (Of unary.Vi (Var 3 sort.Int))) ∷ []); items = ((Data (Number (pos 64)) (Var 0 sort.Val) (Var 1 sort.List)) ∷ []) }); post = (record { opened = []; facts = ((Rel relation.Eq (Var 4 sort.Val) (Of unary.Vi (Number (pos 3)))) ∷ []); locals = []; items = ((Data (Number (pos 64)) (Var 0 sort.Val) (Of3 ternary.Upd (Of3 ternary.Upd (Var 1 sort.List) (Number (pos 6)) (Of unary.Vi (Var 2 sort.Int))) (Var 2 sort.Int) (Of unary.Vi (Number (pos 3))))) ∷ []) }) }) ∷ (record { is_void = false; name = name_main; params = ([]); vars = []; pre = (record { opened = []; facts = ([]); locals = []; items = ([]) }); post = (record { opened = []; facts = ((Rel relation.Eq (Var 0 sort.Val) (Of unary.Vi (Number (pos 0)))) ∷ []); locals = []; items = ([]) }) }) ∷ []) }) (record { is_void = false; name = name_main; params = ([]); vars = []; pre = (record { opened = []; facts = ([]); locals = []; items = ([]) }); post = (record { opened = []; facts = ((Rel relation.Eq (Var 0 sort.Val) (Of unary.Vi (Number (pos 0)))) ∷ []); locals = []; items = ([]) }) }) (record { temps = ([]); body = (c.Then (c.Return (Some (c.Const 0))) c.End) }) (s.Then 1 (s.Fold name_E 0 ([]) ([]) ([])) s.NoBlock s.End) ≡ (RefusedAt 1 21 7)
unfolding computing
random_148 = refl

random_149 : body_verdict (record { predicates = ([]); specs = ((record { is_void = false; name = name_f; params = (name_r0 ∷ name_n1 ∷ name_u2 ∷ []); vars = ((name_e0, sort.Val) ∷ (name_l0, sort.List) ∷ (name_a1, sort.Int) ∷ (name_b2, sort.Int) ∷ []); pre = (record { opened = []; facts = ((Rel relation.Eq (Of unary.Len (Var 1 sort.List)) (Number (pos 8))) ∷ (Rel relation.Le (Number (pos 0)) (Var 2 sort.Int)) ∷ (Rel relation.Le (Var 2 sort.Int) (Number (pos 1000))) ∷ (Rel relation.Le (Number (pos 0)) (Var 3 sort.Int)) ∷ (Rel relation.Le (Var 3 sort.Int) (Number (pos 4294967295))) ∷ []); locals = ((name_r0, (Var 0 sort.Val)) ∷ (name_n1, (Of unary.Vi (Var 2 sort.Int))) ∷ (name_u2, (Of unary.Vi (Var 3 sort.Int))) ∷ []); items = ((Data (Number (pos 64)) (Var 0 sort.Val) (Var 1 sort.List)) ∷ []) }); post = (record { opened = []; facts = ((Rel relation.Eq (Var 4 sort.Val) (Of unary.Vi (Number (pos 3)))) ∷ []); locals = []; items = ((Data (Number (pos 64)) (Var 0 sort.Val) (Of3 ternary.Upd (Of3 ternary.Upd (Var 1 sort.List) (Number (pos 6)) (Of unary.Vi (Var 2 sort.Int))) (Var 2 sort.Int) (Of unary.Vi (Number (pos 3))))) ∷ []) }) }) ∷ (record { is_void = false; name = name_main; params = ([]); vars = []; pre = (record { opened = []; facts = ([]); locals = []; items = ([]) }); post = (record { opened = []; facts = ((Rel relation.Eq (Var 0 sort.Val) (Of unary.Vi (Number (pos 0)))) ∷ []); locals = []; items = ([]) }) }) ∷ []) }) (record { is_void = false; name = name_f; params = (name_r0 ∷ name_n1 ∷ name_u2 ∷ []); vars = ((name_e0, sort.Val) ∷ (name_l0, sort.List) ∷ (name_a1, sort.Int) ∷ (name_b2, sort.Int) ∷ []); pre = (record { opened = []; facts = ((Rel relation.Eq (Of unary.Len (Var 1 sort.List)) (Number (pos 8))) ∷ (Rel relation.Le (Number (pos 0)) (Var 2 sort.Int)) ∷ (Rel relation.Le (Var 2 sort.Int) (Number (pos 1000))) ∷ (Rel relation.Le (Number (pos 0)) (Var 3 sort.Int)) ∷ (Rel relation.Le (Var 3 sort.Int) (Number (pos 4294967295))) ∷ []); locals = ((name_r0, (Var 0 sort.Val)) ∷ (name_n1, (Of unary.Vi (Var 2 sort.Int))) ∷ (name_u2, (Of unary.Vi (Var 3 sort.Int))) ∷ []); items = ((Data (Number (pos 64)) (Var 0 sort.Val) (Var 1 sort.List)) ∷ []) }); post = (record { opened = []; facts = ((Rel relation.Eq (Var 4 sort.Val) (Of unary.Vi (Number (pos 3)))) ∷ []); locals = []; items = ((Data (Number (pos 64)) (Var 0 sort.Val) (Of3 ternary.Upd (Of3 ternary.Upd (Var 1 sort.List) (Number (pos 6)) (Of unary.Vi (Var 2 sort.Int))) (Var 2 sort.Int) (Of unary.Vi (Number (pos 3))))) ∷ []) }) }) (record { temps = (name_r0 ∷ name_n1 ∷ name_u2 ∷ name_s ∷ name_t ∷ name_i ∷ name_x1 ∷ name_d0 ∷ name_p1 ∷ name_q1 ∷ []); body = (c.Then (c.Set 3 (c.Const 3)) (c.Then (c.Set 4 (c.Const 3)) (c.Then (c.Load 4 (root.Temp 0) (c.Index kind.Signed (c.Const 6) c.Here)) (c.Then (c.Store (root.Temp 0) (c.Index kind.Signed (c.Const 6) c.Here) (c.Temp 1)) (c.Then (c.Load 4 (root.Temp 0) (c.Index kind.Signed (c.Const 6) c.Here)) (c.Then (c.If (c.Nonzero kind.Signed (c.Binary two.Lt kind.Signed (c.Temp 1) (c.Const 8))) (c.Then (c.If (c.Nonzero kind.Signed (c.Binary two.Le kind.Signed (c.Const 0) (c.Temp 1))) (c.Then (c.Store (root.Temp 0) (c.Index kind.Signed (c.Temp 1) c.Here) (c.Temp 3)) c.End) c.End) c.End) c.End) (c.Then (c.Return (Some (c.Temp 3))) c.End))))))) }) (s.Then 1 (s.Set ([]) ([])) s.NoBlock (s.Then 2 (s.Set ([]) ([])) s.NoBlock (s.Then 3 (s.Load 0 ([]) ((record { lines = ((line.Comb (((pos 1), 1) ∷ ((pos 1), 6) ∷ [])) ∷ []) }) ∷ [])) s.NoBlock (s.Then 4 (s.Store 0 ([]) ((record { lines = ((line.Comb (((pos 1), 1) ∷ ((pos 1), 6) ∷ [])) ∷ []) }) ∷ [])) s.NoBlock (s.Then 5 (s.Law name_len_upd ((Named name_l0) ∷ (Number (pos 6)) ∷ (Of unary.Vi (Named name_a1)) ∷ []) ([])) s.NoBlock (s.Then 6 (s.Load 0 ([]) ((record { lines = ((line.Comb (((pos 1), 7) ∷ ((pos 1), 1) ∷ ((pos 1), 8) ∷ [])) ∷ []) }) ∷ [])) s.NoBlock (s.Then 7 (s.If ([]) ((record { lines = ((line.Comb (((pos 1), 2) ∷ ((pos 1), 8) ∷ [])) ∷ []) }) ∷ (record { lines = ((line.Comb (((pos 1), 3) ∷ ((pos 1), 8) ∷ [])) ∷ []) }) ∷ []) ([]) ([])) (s.WithBlock (s.Then 8 (s.If ([]) ((record { lines = ((line.Comb (((pos 1), 2) ∷ ((pos 1), 9) ∷ [])) ∷ []) }) ∷ (record { lines = ((line.Comb (((pos 1), 3) ∷ ((pos 1), 9) ∷ [])) ∷ []) }) ∷ []) ([]) ([])) (s.WithBlock (s.Then 9 (s.Store 0 ([]) ((record { lines = ((line.Comb (((pos 1), 2) ∷ ((pos 1), 10) ∷ [])) ∷ []) }) ∷ (record { lines = ((line.Comb (((pos 1), 3) ∷ ((pos 1), 10) ∷ [])) ∷ []) }) ∷ (record { lines = ((line.Comb (((pos 1), 1) ∷ ((pos 1), 7) ∷ [])) ∷ (line.Comb (((pos 1), 10) ∷ ((pos 1), 8) ∷ [])) ∷ (line.Comb (((pos 1), 11) ∷ ((pos 1), 12) ∷ [])) ∷ []) }) ∷ [])) s.NoBlock (s.Then 10 (s.Block 0 (record { opened = []; facts = ([]); locals = ((name_r0, (Named name_e0)) ∷ (name_n1, (Of unary.Vi (Named name_a1))) ∷ (name_u2, (Of unary.Vi (Named name_b2))) ∷ (name_s, (Of unary.Vi (Number (pos 3)))) ∷ (name_t, (Of2 binary.Nth (Of3 ternary.Upd (Named name_l0) (Number (pos 6)) (Of unary.Vi (Named name_a1))) (Number (pos 6)))) ∷ []); items = ((Data (Number (pos 64)) (Named name_e0) (Of3 ternary.Upd (Named name_l0) (Number (pos 6)) (Of unary.Vi (Named name_a1)))) ∷ []) }) ([]) ([])) (s.WithBlock (s.Then 11 (s.Fall ([]) ([])) s.NoBlock s.End) s.NoBlock) (s.Then 12 (s.Law name_len_upd ((Of3 ternary.Upd (Named name_l0) (Number (pos 6)) (Of unary.Vi (Named name_a1))) ∷ (Named name_a1) ∷ (Of unary.Vi (Number (pos 3))) ∷ []) ([])) s.NoBlock (s.Then 13 (s.Have (Rel relation.Eq (Of unary.Len (Of3 ternary.Upd (Of3 ternary.Upd (Named name_l0) (Number (pos 6)) (Of unary.Vi (Named name_a1))) (Named name_a1) (Of unary.Vi (Number (pos 3))))) (Of unary.Len (Of3 ternary.Upd (Named name_l0) (Number (pos 6)) (Of unary.Vi (Named name_a1))))) ([])) s.NoBlock (s.Then 14 (s.Return ([]) ([]) ([])) s.NoBlock s.End))))) (s.WithBlock (s.Then 15 (s.Absurd ((record { lines = ((line.Comb (((pos 1), 2) ∷ ((pos 1), 9) ∷ [])) ∷ []) }) ∷ [])) s.NoBlock s.End) s.NoBlock)) s.End) (s.WithBlock (s.Then 16 (s.Return ([]) ([]) ([])) s.NoBlock s.End) s.NoBlock)) s.End))))))) ≡ (RefusedAt 11 10 5)
unfolding computing
random_149 = refl

random_150 : body_verdict (record { predicates = ([]); specs = ((record { is_void = false; name = name_f; params = (name_r0 ∷ name_n1 ∷ name_u2 ∷ []); vars = ((name_e0, sort.Val) ∷ (name_l0, sort.List) ∷ (name_a1, sort.Int) ∷ (name_b2, sort.Int) ∷ []); pre = (record { opened = []; facts = ((Rel relation.Eq (Of unary.Len (Var 1 sort.List)) (Number (pos 8))) ∷ (Rel relation.Le (Number (pos 0)) (Var 2 sort.Int)) ∷ (Rel relation.Le (Var 2 sort.Int) (Number (pos 1000))) ∷ (Rel relation.Le (Number (pos 0)) (Var 3 sort.Int)) ∷ (Rel relation.Le (Var 3 sort.Int) (Number (pos 4294967295))) ∷ []); locals = ((name_r0, (Var 0 sort.Val)) ∷ (name_n1, (Of unary.Vi (Var 2 sort.Int))) ∷ (name_u2, (Of unary.Vi (Var 3 sort.Int))) ∷ []); items = ((Data (Number (pos 64)) (Var 0 sort.Val) (Var 1 sort.List)) ∷ []) }); post = (record { opened = []; facts = ((Rel relation.Eq (Var 4 sort.Val) (Of unary.Vi (Number (pos 3)))) ∷ []); locals = []; items = ((Data (Number (pos 64)) (Var 0 sort.Val) (Of3 ternary.Upd (Of3 ternary.Upd (Var 1 sort.List) (Number (pos 6)) (Of unary.Vi (Var 2 sort.Int))) (Var 2 sort.Int) (Of unary.Vi (Number (pos 3))))) ∷ []) }) }) ∷ (record { is_void = false; name = name_main; params = ([]); vars = []; pre = (record { opened = []; facts = ([]); locals = []; items = ([]) }); post = (record { opened = []; facts = ((Rel relation.Eq (Var 0 sort.Val) (Of unary.Vi (Number (pos 0)))) ∷ []); locals = []; items = ([]) }) }) ∷ []) }) (record { is_void = false; name = name_f; params = (name_r0 ∷ name_n1 ∷ name_u2 ∷ []); vars = ((name_e0, sort.Val) ∷ (name_l0, sort.List) ∷ (name_a1, sort.Int) ∷ (name_b2, sort.Int) ∷ []); pre = (record { opened = []; facts = ((Rel relation.Eq (Of unary.Len (Var 1 sort.List)) (Number (pos 8))) ∷ (Rel relation.Le (Number (pos 0)) (Var 2 sort.Int)) ∷ (Rel relation.Le (Var 2 sort.Int) (Number (pos 1000))) ∷ (Rel relation.Le (Number (pos 0)) (Var 3 sort.Int)) ∷ (Rel relation.Le (Var 3 sort.Int) (Number (pos 4294967295))) ∷ []); locals = ((name_r0, (Var 0 sort.Val)) ∷ (name_n1, (Of unary.Vi (Var 2 sort.Int))) ∷ (name_u2, (Of unary.Vi (Var 3 sort.Int))) ∷ []); items = ((Data (Number (pos 64)) (Var 0 sort.Val) (Var 1 sort.List)) ∷ []) }); post = (record { opened = []; facts = ((Rel relation.Eq (Var 4 sort.Val) (Of unary.Vi (Number (pos 3)))) ∷ []); locals = []; items = ((Data (Number (pos 64)) (Var 0 sort.Val) (Of3 ternary.Upd (Of3 ternary.Upd (Var 1 sort.List) (Number (pos 6)) (Of unary.Vi (Var 2 sort.Int))) (Var 2 sort.Int) (Of unary.Vi (Number (pos 3))))) ∷ []) }) }) (record { temps = (name_r0 ∷ name_n1 ∷ name_u2 ∷ name_s ∷ name_t ∷ name_i ∷ name_x1 ∷ name_d0 ∷ name_p1 ∷ name_q1 ∷ []); body = (c.Then (c.Set 3 (c.Const 3)) (c.Then (c.Set 4 (c.Const 3)) (c.Then (c.Load 4 (root.Temp 0) (c.Index kind.Signed (c.Const 6) c.Here)) (c.Then (c.Store (root.Temp 0) (c.Index kind.Signed (c.Const 6) c.Here) (c.Temp 1)) (c.Then (c.Load 4 (root.Temp 0) (c.Index kind.Signed (c.Const 6) c.Here)) (c.Then (c.If (c.Nonzero kind.Signed (c.Binary two.Lt kind.Signed (c.Temp 1) (c.Const 8))) (c.Then (c.If (c.Nonzero kind.Signed (c.Binary two.Le kind.Signed (c.Const 0) (c.Temp 1))) (c.Then (c.Store (root.Temp 0) (c.Index kind.Signed (c.Temp 1) c.Here) (c.Temp 3)) c.End) c.End) c.End) c.End) (c.Then (c.Return (Some (c.Temp 3))) c.End))))))) }) (s.Then 1 (s.Set ([]) ([])) s.NoBlock (s.Then 2 (s.Set ([]) ([])) s.NoBlock (s.Then 3 (s.Set ([]) ([])) s.NoBlock (s.Then 4 (s.Load 0 ([]) ((record { lines = ((line.Comb (((pos 1), 2) ∷ ((pos 1), 10) ∷ [])) ∷ []) }) ∷ [])) s.NoBlock (s.Then 5 (s.Store 0 ([]) ((record { lines = ((line.Comb (((pos 1), 1) ∷ ((pos 1), 6) ∷ [])) ∷ []) }) ∷ [])) s.NoBlock (s.Then 6 (s.Law name_len_upd ((Named name_l0) ∷ (Number (pos 6)) ∷ (Of unary.Vi (Named name_a1)) ∷ []) ([])) s.NoBlock (s.Then 7 (s.Load 0 ([]) ((record { lines = ((line.Comb (((pos 1), 7) ∷ ((pos 1), 1) ∷ ((pos 1), 8) ∷ [])) ∷ []) }) ∷ [])) s.NoBlock (s.Then 8 (s.If ([]) ((record { lines = ((line.Comb (((pos 1), 2) ∷ ((pos 1), 8) ∷ [])) ∷ []) }) ∷ (record { lines = ((line.Comb (((pos 1), 3) ∷ ((pos 1), 8) ∷ [])) ∷ []) }) ∷ []) ([]) ([])) (s.WithBlock (s.Then 9 (s.If ([]) ((record { lines = ((line.Comb (((pos 1), 2) ∷ ((pos 1), 9) ∷ [])) ∷ []) }) ∷ (record { lines = ((line.Comb (((pos 1), 3) ∷ ((pos 1), 9) ∷ [])) ∷ []) }) ∷ []) ([]) ([])) (s.WithBlock (s.Then 10 (s.Block 0 (record { opened = []; facts = ([]); locals = ((name_r0, (Named name_e0)) ∷ (name_n1, (Of unary.Vi (Named name_a1))) ∷ (name_u2, (Of unary.Vi (Named name_b2))) ∷ (name_s, (Of unary.Vi (Number (pos 3)))) ∷ (name_t, (Of2 binary.Nth (Of3 ternary.Upd (Named name_l0) (Number (pos 6)) (Of unary.Vi (Named name_a1))) (Number (pos 6)))) ∷ []); items = ((Data (Number (pos 64)) (Named name_e0) (Of3 ternary.Upd (Named name_l0) (Number (pos 6)) (Of unary.Vi (Named name_a1)))) ∷ []) }) ([]) ([])) (s.WithBlock (s.Then 11 (s.Fall ([]) ([])) s.NoBlock s.End) s.NoBlock) (s.Then 12 (s.Store 0 ([]) ((record { lines = ((line.Comb (((pos 1), 2) ∷ ((pos 1), 10) ∷ [])) ∷ []) }) ∷ (record { lines = ((line.Comb (((pos 1), 3) ∷ ((pos 1), 10) ∷ [])) ∷ []) }) ∷ (record { lines = ((line.Comb (((pos 1), 1) ∷ ((pos 1), 7) ∷ [])) ∷ (line.Comb (((pos 1), 10) ∷ ((pos 1), 8) ∷ [])) ∷ (line.Comb (((pos 1), 11) ∷ ((pos 1), 12) ∷ [])) ∷ []) }) ∷ [])) s.NoBlock (s.Then 13 (s.Law name_len_upd ((Of3 ternary.Upd (Named name_l0) (Number (pos 6)) (Of unary.Vi (Named name_a1))) ∷ (Named name_a1) ∷ (Of unary.Vi (Number (pos 3))) ∷ []) ([])) s.NoBlock (s.Then 14 (s.Have (Rel relation.Eq (Of unary.Len (Of3 ternary.Upd (Of3 ternary.Upd (Named name_l0) (Number (pos 6)) (Of unary.Vi (Named name_a1))) (Named name_a1) (Of unary.Vi (Number (pos 3))))) (Of unary.Len (Of3 ternary.Upd (Named name_l0) (Number (pos 6)) (Of unary.Vi (Named name_a1))))) ([])) s.NoBlock (s.Then 15 (s.Return ([]) ([]) ([])) s.NoBlock s.End))))) (s.WithBlock (s.Then 16 (s.Absurd ((record { lines = ((line.Comb (((pos 1), 2) ∷ ((pos 1), 9) ∷ [])) ∷ []) }) ∷ [])) s.NoBlock s.End) s.NoBlock)) s.End) (s.WithBlock (s.Then 17 (s.Return ([]) ([]) ([])) s.NoBlock s.End) s.NoBlock)) s.End)))))))) ≡ (RefusedAt 3 2 1)
unfolding computing
random_150 = refl

random_151 : body_verdict (record { predicates = ([]); specs = ((record { is_void = false; name = name_f; params = (name_r0 ∷ name_n1 ∷ name_u2 ∷ []); vars = ((name_e0, sort.Val) ∷ (name_l0, sort.List) ∷ (name_a1, sort.Int) ∷ (name_b2, sort.Int) ∷ []); pre = (record { opened = []; facts = ((Rel relation.Eq (Of unary.Len (Var 1 sort.List)) (Number (pos 8))) ∷ (Rel relation.Le (Number (pos 0)) (Var 2 sort.Int)) ∷ (Rel relation.Le (Var 2 sort.Int) (Number (pos 1000))) ∷ (Rel relation.Le (Number (pos 0)) (Var 3 sort.Int)) ∷ (Rel relation.Le (Var 3 sort.Int) (Number (pos 4294967295))) ∷ []); locals = ((name_r0, (Var 0 sort.Val)) ∷ (name_n1, (Of unary.Vi (Var 2 sort.Int))) ∷ (name_u2, (Of unary.Vi (Var 3 sort.Int))) ∷ []); items = ((Data (Number (pos 64)) (Var 0 sort.Val) (Var 1 sort.List)) ∷ []) }); post = (record { opened = []; facts = ((Rel relation.Eq (Var 4 sort.Val) (Of unary.Vi (Number (pos 3)))) ∷ []); locals = []; items = ((Data (Number (pos 64)) (Var 0 sort.Val) (Of3 ternary.Upd (Of3 ternary.Upd (Var 1 sort.List) (Number (pos 6)) (Of unary.Vi (Var 2 sort.Int))) (Var 2 sort.Int) (Of unary.Vi (Number (pos 3))))) ∷ []) }) }) ∷ (record { is_void = false; name = name_main; params = ([]); vars = []; pre = (record { opened = []; facts = ([]); locals = []; items = ([]) }); post = (record { opened = []; facts = ((Rel relation.Eq (Var 0 sort.Val) (Of unary.Vi (Number (pos 0)))) ∷ []); locals = []; items = ([]) }) }) ∷ []) }) (record { is_void = false; name = name_f; params = (name_r0 ∷ name_n1 ∷ name_u2 ∷ []); vars = ((name_e0, sort.Val) ∷ (name_l0, sort.List) ∷ (name_a1, sort.Int) ∷ (name_b2, sort.Int) ∷ []); pre = (record { opened = []; facts = ((Rel relation.Eq (Of unary.Len (Var 1 sort.List)) (Number (pos 8))) ∷ (Rel relation.Le (Number (pos 0)) (Var 2 sort.Int)) ∷ (Rel relation.Le (Var 2 sort.Int) (Number (pos 1000))) ∷ (Rel relation.Le (Number (pos 0)) (Var 3 sort.Int)) ∷ (Rel relation.Le (Var 3 sort.Int) (Number (pos 4294967295))) ∷ []); locals = ((name_r0, (Var 0 sort.Val)) ∷ (name_n1, (Of unary.Vi (Var 2 sort.Int))) ∷ (name_u2, (Of unary.Vi (Var 3 sort.Int))) ∷ []); items = ((Data (Number (pos 64)) (Var 0 sort.Val) (Var 1 sort.List)) ∷ []) }); post = (record { opened = []; facts = ((Rel relation.Eq (Var 4 sort.Val) (Of unary.Vi (Number (pos 3)))) ∷ []); locals = []; items = ((Data (Number (pos 64)) (Var 0 sort.Val) (Of3 ternary.Upd (Of3 ternary.Upd (Var 1 sort.List) (Number (pos 6)) (Of unary.Vi (Var 2 sort.Int))) (Var 2 sort.Int) (Of unary.Vi (Number (pos 3))))) ∷ []) }) }) (record { temps = (name_r0 ∷ name_n1 ∷ name_u2 ∷ name_s ∷ name_t ∷ name_i ∷ name_x1 ∷ name_d0 ∷ name_p1 ∷ name_q1 ∷ []); body = (c.Then (c.Set 3 (c.Const 3)) (c.Then (c.Set 4 (c.Const 3)) (c.Then (c.Load 4 (root.Temp 0) (c.Index kind.Signed (c.Const 6) c.Here)) (c.Then (c.Store (root.Temp 0) (c.Index kind.Signed (c.Const 6) c.Here) (c.Temp 1)) (c.Then (c.Load 4 (root.Temp 0) (c.Index kind.Signed (c.Const 6) c.Here)) (c.Then (c.If (c.Nonzero kind.Signed (c.Binary two.Lt kind.Signed (c.Temp 1) (c.Const 8))) (c.Then (c.If (c.Nonzero kind.Signed (c.Binary two.Le kind.Signed (c.Const 0) (c.Temp 1))) (c.Then (c.Store (root.Temp 0) (c.Index kind.Signed (c.Temp 1) c.Here) (c.Temp 3)) c.End) c.End) c.End) c.End) (c.Then (c.Return (Some (c.Temp 3))) c.End))))))) }) (s.Then 1 (s.Set ([]) ([])) s.NoBlock (s.Then 2 (s.Set ([]) ([])) s.NoBlock (s.Then 3 (s.Load 0 ([]) ((record { lines = ((line.Comb (((pos 1), 1) ∷ ((pos 1), 6) ∷ [])) ∷ []) }) ∷ [])) s.NoBlock (s.Then 4 (s.Store 0 ([]) ((record { lines = ((line.Comb (((pos 1), 1) ∷ ((pos 1), 6) ∷ [])) ∷ []) }) ∷ [])) s.NoBlock (s.Then 5 (s.Law name_len_upd ((Named name_l0) ∷ (Number (pos 6)) ∷ (Of unary.Vi (Named name_a1)) ∷ []) ([])) s.NoBlock (s.Then 6 (s.Load 0 ([]) ((record { lines = ((line.Comb (((pos 1), 7) ∷ ((pos 1), 1) ∷ ((pos 1), 8) ∷ [])) ∷ []) }) ∷ [])) s.NoBlock (s.Then 7 (s.If ([]) ((record { lines = ((line.Comb (((pos 1), 2) ∷ ((pos 1), 8) ∷ [])) ∷ []) }) ∷ (record { lines = ((line.Comb (((pos 1), 3) ∷ ((pos 1), 8) ∷ [])) ∷ []) }) ∷ []) ([]) ([])) (s.WithBlock (s.Then 8 (s.If ([]) ((record { lines = ((line.Comb (((pos 1), 2) ∷ ((pos 1), 9) ∷ [])) ∷ []) }) ∷ (record { lines = ((line.Comb (((pos 1), 3) ∷ ((pos 1), 9) ∷ [])) ∷ []) }) ∷ []) ([]) ([])) (s.WithBlock (s.Then 9 (s.Block 0 (record { opened = []; facts = ([]); locals = ((name_r0, (Named name_e0)) ∷ (name_n1, (Of unary.Vi (Named name_a1))) ∷ (name_u2, (Of unary.Vi (Named name_b2))) ∷ (name_s, (Of unary.Vi (Number (pos 3)))) ∷ (name_t, (Of2 binary.Nth (Of3 ternary.Upd (Named name_l0) (Number (pos 6)) (Of unary.Vi (Named name_a1))) (Number (pos 6)))) ∷ []); items = ((Data (Number (pos 64)) (Named name_e0) (Of3 ternary.Upd (Named name_l0) (Number (pos 6)) (Of unary.Vi (Named name_a1)))) ∷ []) }) ([]) ([])) (s.WithBlock (s.Then 10 (s.Fall ([]) ([])) s.NoBlock s.End) s.NoBlock) (s.Then 11 (s.Store 0 ([]) ((record { lines = ((line.Comb (((pos 1), 2) ∷ ((pos 1), 10) ∷ [])) ∷ []) }) ∷ (record { lines = ((line.Comb (((pos 1), 3) ∷ ((pos 1), 10) ∷ [])) ∷ []) }) ∷ (record { lines = ((line.Comb (((pos 1), 1) ∷ ((pos 1), 7) ∷ [])) ∷ (line.Comb (((pos 1), 10) ∷ ((pos 1), 8) ∷ [])) ∷ (line.Comb (((pos 1), 11) ∷ ((pos 1), 12) ∷ [])) ∷ []) }) ∷ [])) s.NoBlock (s.Then 12 (s.Law name_len_upd ((Of3 ternary.Upd (Named name_l0) (Number (pos 6)) (Of unary.Vi (Named name_a1))) ∷ (Named name_a1) ∷ (Of unary.Vi (Number (pos 3))) ∷ []) ([])) s.NoBlock (s.Then 13 (s.Have (Rel relation.Eq (Of unary.Len (Of3 ternary.Upd (Of3 ternary.Upd (Named name_l0) (Number (pos 6)) (Of unary.Vi (Named name_a1))) (Named name_a1) (Of unary.Vi (Number (pos 3))))) (Of unary.Len (Of3 ternary.Upd (Named name_l0) (Number (pos 5)) (Of unary.Vi (Named name_a1))))) ([])) s.NoBlock (s.Then 14 (s.Return ([]) ([]) ([])) s.NoBlock s.End))))) (s.WithBlock (s.Then 15 (s.Absurd ((record { lines = ((line.Comb (((pos 1), 2) ∷ ((pos 1), 9) ∷ [])) ∷ []) }) ∷ [])) s.NoBlock s.End) s.NoBlock)) s.End) (s.WithBlock (s.Then 16 (s.Return ([]) ([]) ([])) s.NoBlock s.End) s.NoBlock)) s.End))))))) ≡ (RefusedAt 13 25 3)
unfolding computing
random_151 = refl

random_152 : body_verdict (record { predicates = ((record { name = name_ov; args = ([]); cases = ((record { opened = (sort.Val ∷ []); facts = ([]); locals = []; items = ((Data (Number (pos 64)) (Global name_x) (Of2 binary.Cons (Var 0 sort.Val) Nil)) ∷ []) }) ∷ []) }) ∷ []); specs = ((record { is_void = false; name = name_main; params = ([]); vars = []; pre = (record { opened = []; facts = ([]); locals = []; items = ((Data (Number (pos 64)) (Global name_g) (Of2 binary.Cons (Of unary.Vi (Number (pos 3))) Nil)) ∷ (Data (Number (pos 64)) (Global name_arr) (Of2 binary.Cons (Of unary.Vi (Number (pos 1))) (Of2 binary.Cons (Of unary.Vi (Number (pos 2))) (Of2 binary.Cons (Of unary.Vi (Number (pos 0))) (Of2 binary.Cons (Of unary.Vi (Number (pos 0))) Nil))))) ∷ (Data (Number (pos 64)) (Global name_x) (Of2 binary.Cons (Of unary.Vi (Number (pos 3))) Nil)) ∷ (Data (Number (pos 64)) (Global name_l) (Of2 binary.Cons (Of unary.Vi (Number (pos 0))) Nil)) ∷ []) }); post = (record { opened = (sort.List ∷ []); facts = ((Rel relation.Eq (Var 0 sort.Val) (Of unary.Vi (Number (pos 2)))) ∷ []); locals = []; items = ((Data (Number (pos 64)) (Global name_g) (Of2 binary.Cons (Of unary.Vi (Number (pos 3))) Nil)) ∷ (Data (Number (pos 64)) (Global name_arr) (Of2 binary.Cons (Of unary.Vi (Number (pos 1))) (Of2 binary.Cons (Of unary.Vi (Number (pos 2))) (Of2 binary.Cons (Of unary.Vi (Number (pos 0))) (Of2 binary.Cons (Of unary.Vi (Number (pos 0))) Nil))))) ∷ (Data (Number (pos 64)) (Global name_x) (Var 1 sort.List)) ∷ (Data (Number (pos 64)) (Global name_l) (Of2 binary.Cons Undef Nil)) ∷ []) }) }) ∷ []) }) (record { is_void = false; name = name_main; params = ([]); vars = []; pre = (record { opened = []; facts = ([]); locals = []; items = ((Data (Number (pos 64)) (Global name_g) (Of2 binary.Cons (Of unary.Vi (Number (pos 3))) Nil)) ∷ (Data (Number (pos 64)) (Global name_arr) (Of2 binary.Cons (Of unary.Vi (Number (pos 1))) (Of2 binary.Cons (Of unary.Vi (Number (pos 2))) (Of2 binary.Cons (Of unary.Vi (Number (pos 0))) (Of2 binary.Cons (Of unary.Vi (Number (pos 0))) Nil))))) ∷ (Data (Number (pos 64)) (Global name_x) (Of2 binary.Cons (Of unary.Vi (Number (pos 3))) Nil)) ∷ (Data (Number (pos 64)) (Global name_l) (Of2 binary.Cons (Of unary.Vi (Number (pos 0))) Nil)) ∷ []) }); post = (record { opened = (sort.List ∷ []); facts = ((Rel relation.Eq (Var 0 sort.Val) (Of unary.Vi (Number (pos 2)))) ∷ []); locals = []; items = ((Data (Number (pos 64)) (Global name_g) (Of2 binary.Cons (Of unary.Vi (Number (pos 3))) Nil)) ∷ (Data (Number (pos 64)) (Global name_arr) (Of2 binary.Cons (Of unary.Vi (Number (pos 1))) (Of2 binary.Cons (Of unary.Vi (Number (pos 2))) (Of2 binary.Cons (Of unary.Vi (Number (pos 0))) (Of2 binary.Cons (Of unary.Vi (Number (pos 0))) Nil))))) ∷ (Data (Number (pos 64)) (Global name_x) (Var 1 sort.List)) ∷ (Data (Number (pos 64)) (Global name_l) (Of2 binary.Cons Undef Nil)) ∷ []) }) }) (record { temps = (name_s ∷ name_t ∷ name_i ∷ name_x1 ∷ name_d0 ∷ name_p1 ∷ name_q1 ∷ []); body = (c.Then (c.Set 0 (c.Const 2)) (c.Then (c.Set 1 (c.Const 3)) (c.Then (c.OnLock lock.Make (c.Address (root.Global name_l 1) c.Here)) (c.Then (c.OnLock lock.Release (c.Address (root.Global name_l 1) c.Here)) (c.Then (c.Set 0 (c.Temp 1)) (c.Then (c.Set 4 (c.Binary two.Eq kind.Signed (c.Const 3) (c.Const 2))) (c.Then (c.OnLock lock.Acquire (c.Address (root.Global name_l 1) c.Here)) (c.Then (c.OnLock lock.Free (c.Address (root.Global name_l 1) c.Here)) (c.Then (c.Return (Some (c.Const 2))) c.End))))))))) }) (s.Then 1 (s.Set ([]) ([])) s.NoBlock (s.Then 2 (s.Set ([]) ([])) s.NoBlock (s.Then 3 (s.MakeLock 3 (record { name = name_ov; args = ([]) }) ([]) ([])) s.NoBlock (s.Then 4 (s.Fold name_ov 0 ([]) ((Of unary.Vi (Number (pos 3))) ∷ []) ([])) s.NoBlock (s.Then 5 (s.Release 3 4 ([])) s.NoBlock (s.Then 6 (s.Set ([]) ([])) s.NoBlock (s.Then 7 (s.Set ([]) ([])) s.NoBlock (s.Then 8 (s.Acquire 2 ([])) s.NoBlock (s.Then 9 (s.Unfold 4 ((name_k1 ∷ []) ∷ [])) (s.WithBlock (s.Then 10 (s.Set ([]) ([])) s.NoBlock (s.Then 11 (s.FreeLock 2 3 ([]) ([])) s.NoBlock (s.Then 12 (s.Return ((Of2 binary.Cons (Named name_k1) Nil) ∷ []) ([]) ([])) s.NoBlock s.End))) s.NoBlock) s.End))))))))) ≡ (RefusedAt 10 2 1)
unfolding computing
random_152 = refl

random_153 : body_verdict (record { predicates = ((record { name = name_ov; args = ([]); cases = ((record { opened = (sort.Val ∷ []); facts = ([]); locals = []; items = ((Data (Number (pos 64)) (Global name_x) (Of2 binary.Cons (Var 0 sort.Val) Nil)) ∷ []) }) ∷ []) }) ∷ []); specs = ((record { is_void = false; name = name_main; params = ([]); vars = []; pre = (record { opened = []; facts = ([]); locals = []; items = ((Data (Number (pos 64)) (Global name_g) (Of2 binary.Cons (Of unary.Vi (Number (pos 3))) Nil)) ∷ (Data (Number (pos 64)) (Global name_arr) (Of2 binary.Cons (Of unary.Vi (Number (pos 1))) (Of2 binary.Cons (Of unary.Vi (Number (pos 2))) (Of2 binary.Cons (Of unary.Vi (Number (pos 0))) (Of2 binary.Cons (Of unary.Vi (Number (pos 1))) Nil))))) ∷ (Data (Number (pos 64)) (Global name_x) (Of2 binary.Cons (Of unary.Vi (Number (pos 3))) Nil)) ∷ (Data (Number (pos 64)) (Global name_l) (Of2 binary.Cons (Of unary.Vi (Number (pos 0))) Nil)) ∷ []) }); post = (record { opened = (sort.List ∷ []); facts = ((Rel relation.Eq (Var 0 sort.Val) (Of unary.Vi (Number (pos 2)))) ∷ []); locals = []; items = ((Data (Number (pos 64)) (Global name_g) (Of2 binary.Cons (Of unary.Vi (Number (pos 3))) Nil)) ∷ (Data (Number (pos 64)) (Global name_arr) (Of2 binary.Cons (Of unary.Vi (Number (pos 1))) (Of2 binary.Cons (Of unary.Vi (Number (pos 2))) (Of2 binary.Cons (Of unary.Vi (Number (pos 0))) (Of2 binary.Cons (Of unary.Vi (Number (pos 0))) Nil))))) ∷ (Data (Number (pos 64)) (Global name_x) (Var 1 sort.List)) ∷ (Data (Number (pos 64)) (Global name_l) (Of2 binary.Cons Undef Nil)) ∷ []) }) }) ∷ []) }) (record { is_void = false; name = name_main; params = ([]); vars = []; pre = (record { opened = []; facts = ([]); locals = []; items = ((Data (Number (pos 64)) (Global name_g) (Of2 binary.Cons (Of unary.Vi (Number (pos 3))) Nil)) ∷ (Data (Number (pos 64)) (Global name_arr) (Of2 binary.Cons (Of unary.Vi (Number (pos 1))) (Of2 binary.Cons (Of unary.Vi (Number (pos 2))) (Of2 binary.Cons (Of unary.Vi (Number (pos 0))) (Of2 binary.Cons (Of unary.Vi (Number (pos 1))) Nil))))) ∷ (Data (Number (pos 64)) (Global name_x) (Of2 binary.Cons (Of unary.Vi (Number (pos 3))) Nil)) ∷ (Data (Number (pos 64)) (Global name_l) (Of2 binary.Cons (Of unary.Vi (Number (pos 0))) Nil)) ∷ []) }); post = (record { opened = (sort.List ∷ []); facts = ((Rel relation.Eq (Var 0 sort.Val) (Of unary.Vi (Number (pos 2)))) ∷ []); locals = []; items = ((Data (Number (pos 64)) (Global name_g) (Of2 binary.Cons (Of unary.Vi (Number (pos 3))) Nil)) ∷ (Data (Number (pos 64)) (Global name_arr) (Of2 binary.Cons (Of unary.Vi (Number (pos 1))) (Of2 binary.Cons (Of unary.Vi (Number (pos 2))) (Of2 binary.Cons (Of unary.Vi (Number (pos 0))) (Of2 binary.Cons (Of unary.Vi (Number (pos 0))) Nil))))) ∷ (Data (Number (pos 64)) (Global name_x) (Var 1 sort.List)) ∷ (Data (Number (pos 64)) (Global name_l) (Of2 binary.Cons Undef Nil)) ∷ []) }) }) (record { temps = (name_s ∷ name_t ∷ name_i ∷ name_x1 ∷ name_d0 ∷ name_p1 ∷ name_q1 ∷ []); body = (c.Then (c.Set 0 (c.Const 2)) (c.Then (c.Set 1 (c.Const 3)) (c.Then (c.OnLock lock.Make (c.Address (root.Global name_l 1) c.Here)) (c.Then (c.OnLock lock.Release (c.Address (root.Global name_l 1) c.Here)) (c.Then (c.Set 0 (c.Temp 1)) (c.Then (c.Set 4 (c.Binary two.Eq kind.Signed (c.Const 3) (c.Const 2))) (c.Then (c.OnLock lock.Acquire (c.Address (root.Global name_l 1) c.Here)) (c.Then (c.OnLock lock.Free (c.Address (root.Global name_l 1) c.Here)) (c.Then (c.Return (Some (c.Const 2))) c.End))))))))) }) (s.Then 1 (s.Set ([]) ([])) s.NoBlock (s.Then 2 (s.Set ([]) ([])) s.NoBlock (s.Then 3 (s.MakeLock 3 (record { name = name_ov; args = ([]) }) ([]) ([])) s.NoBlock (s.Then 4 (s.Fold name_ov 0 ([]) ((Of unary.Vi (Number (pos 3))) ∷ []) ([])) s.NoBlock (s.Then 5 (s.Release 3 4 ([])) s.NoBlock (s.Then 6 (s.Set ([]) ([])) s.NoBlock (s.Then 7 (s.Set ([]) ([])) s.NoBlock (s.Then 8 (s.Acquire 2 ([])) s.NoBlock (s.Then 9 (s.Unfold 4 ((name_k1 ∷ []) ∷ [])) (s.WithBlock (s.Then 10 (s.FreeLock 2 3 ([]) ([])) s.NoBlock (s.Then 11 (s.Return ((Of2 binary.Cons (Named name_k1) Nil) ∷ []) ([]) ([])) s.NoBlock s.End)) s.NoBlock) s.End))))))))) ≡ (RefusedAt 11 9 5)
unfolding computing
random_153 = refl

random_154 : body_verdict (record { predicates = ((record { name = name_ov; args = ([]); cases = ((record { opened = (sort.Val ∷ []); facts = ([]); locals = []; items = ((Data (Number (pos 64)) (Global name_x) (Of2 binary.Cons (Var 0 sort.Val) Nil)) ∷ []) }) ∷ []) }) ∷ []); specs = ((record { is_void = false; name = name_main; params = ([]); vars = []; pre = (record { opened = []; facts = ([]); locals = []; items = ((Data (Number (pos 64)) (Global name_g) (Of2 binary.Cons (Of unary.Vi (Number (pos 3))) Nil)) ∷ (Data (Number (pos 64)) (Global name_arr) (Of2 binary.Cons (Of unary.Vi (Number (pos 1))) (Of2 binary.Cons (Of unary.Vi (Number (pos 2))) (Of2 binary.Cons (Of unary.Vi (Number (pos 0))) (Of2 binary.Cons (Of unary.Vi (Number (pos 0))) Nil))))) ∷ (Data (Number (pos 64)) (Global name_x) (Of2 binary.Cons (Of unary.Vi (Number (pos 3))) Nil)) ∷ (Data (Number (pos 64)) (Global name_l) (Of2 binary.Cons (Of unary.Vi (Number (pos 0))) Nil)) ∷ []) }); post = (record { opened = (sort.List ∷ []); facts = ((Rel relation.Eq (Var 0 sort.Val) (Of unary.Vi (Number (pos 2)))) ∷ []); locals = []; items = ((Data (Number (pos 64)) (Global name_g) (Of2 binary.Cons (Of unary.Vi (Number (pos 3))) Nil)) ∷ (Data (Number (pos 64)) (Global name_arr) (Of2 binary.Cons (Of unary.Vi (Number (pos 1))) (Of2 binary.Cons (Of unary.Vi (Number (pos 2))) (Of2 binary.Cons (Of unary.Vi (Number (pos 0))) (Of2 binary.Cons (Of unary.Vi (Number (pos 0))) Nil))))) ∷ (Data (Number (pos 64)) (Global name_x) (Var 1 sort.List)) ∷ (Data (Number (pos 64)) (Global name_l) (Of2 binary.Cons Undef Nil)) ∷ []) }) }) ∷ []) }) (record { is_void = false; name = name_main; params = ([]); vars = []; pre = (record { opened = []; facts = ([]); locals = []; items = ((Data (Number (pos 64)) (Global name_g) (Of2 binary.Cons (Of unary.Vi (Number (pos 3))) Nil)) ∷ (Data (Number (pos 64)) (Global name_arr) (Of2 binary.Cons (Of unary.Vi (Number (pos 1))) (Of2 binary.Cons (Of unary.Vi (Number (pos 2))) (Of2 binary.Cons (Of unary.Vi (Number (pos 0))) (Of2 binary.Cons (Of unary.Vi (Number (pos 0))) Nil))))) ∷ (Data (Number (pos 64)) (Global name_x) (Of2 binary.Cons (Of unary.Vi (Number (pos 3))) Nil)) ∷ (Data (Number (pos 64)) (Global name_l) (Of2 binary.Cons (Of unary.Vi (Number (pos 0))) Nil)) ∷ []) }); post = (record { opened = (sort.List ∷ []); facts = ((Rel relation.Eq (Var 0 sort.Val) (Of unary.Vi (Number (pos 2)))) ∷ []); locals = []; items = ((Data (Number (pos 64)) (Global name_g) (Of2 binary.Cons (Of unary.Vi (Number (pos 3))) Nil)) ∷ (Data (Number (pos 64)) (Global name_arr) (Of2 binary.Cons (Of unary.Vi (Number (pos 1))) (Of2 binary.Cons (Of unary.Vi (Number (pos 2))) (Of2 binary.Cons (Of unary.Vi (Number (pos 0))) (Of2 binary.Cons (Of unary.Vi (Number (pos 0))) Nil))))) ∷ (Data (Number (pos 64)) (Global name_x) (Var 1 sort.List)) ∷ (Data (Number (pos 64)) (Global name_l) (Of2 binary.Cons Undef Nil)) ∷ []) }) }) (record { temps = (name_s ∷ name_t ∷ name_i ∷ name_x1 ∷ name_d0 ∷ name_p1 ∷ name_q1 ∷ []); body = (c.Then (c.Set 0 (c.Const 2)) (c.Then (c.Set 1 (c.Const 3)) (c.Then (c.OnLock lock.Make (c.Address (root.Global name_l 1) c.Here)) (c.Then (c.OnLock lock.Release (c.Address (root.Global name_l 1) c.Here)) (c.Then (c.Set 0 (c.Temp 1)) (c.Then (c.Set 4 (c.Binary two.Eq kind.Signed (c.Const 3) (c.Const 2))) (c.Then (c.OnLock lock.Acquire (c.Address (root.Global name_l 1) c.Here)) (c.Then (c.OnLock lock.Free (c.Address (root.Global name_l 1) c.Here)) (c.Then (c.Return (Some (c.Const 2))) c.End))))))))) }) (s.Then 1 (s.Set ([]) ([])) s.NoBlock (s.Then 2 (s.Set ([]) ([])) s.NoBlock (s.Then 3 (s.MakeLock 3 (record { name = name_ov; args = ([]) }) ([]) ([])) s.NoBlock (s.Then 4 (s.Fold name_ov 0 ([]) ((Of unary.Vi (Number (pos 3))) ∷ []) ([])) s.NoBlock (s.Then 5 (s.Unfold 4 ((name_k1 ∷ []) ∷ [])) (s.WithBlock (s.Then 6 (s.FreeLock 2 3 ([]) ([])) s.NoBlock (s.Then 7 (s.Return ((Of2 binary.Cons (Named name_k1) Nil) ∷ []) ([]) ([])) s.NoBlock s.End)) s.NoBlock) (s.Then 8 (s.Release 3 4 ([])) s.NoBlock (s.Then 9 (s.Set ([]) ([])) s.NoBlock (s.Then 10 (s.Set ([]) ([])) s.NoBlock (s.Then 11 (s.Acquire 2 ([])) s.NoBlock (s.Then 12 (s.Unfold 4 ((name_k1 ∷ []) ∷ [])) (s.WithBlock (s.Then 13 (s.FreeLock 2 3 ([]) ([])) s.NoBlock (s.Then 14 (s.Return ((Of2 binary.Cons (Named name_ov) Nil) ∷ []) ([]) ([])) s.NoBlock s.End)) s.NoBlock) s.End)))))))))) ≡ (RefusedAt 6 19 1)
unfolding computing
random_154 = refl

random_155 : body_verdict (record { predicates = ((record { name = name_ov; args = ([]); cases = ((record { opened = (sort.Val ∷ []); facts = ([]); locals = []; items = ((Data (Number (pos 64)) (Global name_x) (Of2 binary.Cons (Var 0 sort.Val) Nil)) ∷ []) }) ∷ []) }) ∷ []); specs = ((record { is_void = false; name = name_main; params = ([]); vars = []; pre = (record { opened = []; facts = ([]); locals = []; items = ((Data (Number (pos 64)) (Global name_g) (Of2 binary.Cons (Of unary.Vi (Number (pos 3))) Nil)) ∷ (Data (Number (pos 64)) (Global name_arr) (Of2 binary.Cons (Of unary.Vi (Number (pos 1))) (Of2 binary.Cons (Of unary.Vi (Number (pos 2))) (Of2 binary.Cons (Of unary.Vi (Number (pos 0))) (Of2 binary.Cons (Of unary.Vi (Number (pos 0))) Nil))))) ∷ (Data (Number (pos 64)) (Global name_x) (Of2 binary.Cons (Of unary.Vi (Number (pos 3))) Nil)) ∷ (Data (Number (pos 64)) (Global name_l) (Of2 binary.Cons (Of unary.Vi (Number (pos 0))) Nil)) ∷ []) }); post = (record { opened = (sort.List ∷ []); facts = ((Rel relation.Eq (Var 0 sort.Val) (Of unary.Vi (Number (pos 2)))) ∷ []); locals = []; items = ((Data (Number (pos 64)) (Global name_g) (Of2 binary.Cons (Of unary.Vi (Number (pos 3))) Nil)) ∷ (Data (Number (pos 64)) (Global name_arr) (Of2 binary.Cons (Of unary.Vi (Number (pos 1))) (Of2 binary.Cons (Of unary.Vi (Number (pos 2))) (Of2 binary.Cons (Of unary.Vi (Number (pos 0))) (Of2 binary.Cons (Of unary.Vi (Number (pos 0))) Nil))))) ∷ (Data (Number (pos 64)) (Global name_x) (Var 1 sort.List)) ∷ (Data (Number (pos 64)) (Global name_l) (Of2 binary.Cons Undef Nil)) ∷ []) }) }) ∷ []) }) (record { is_void = false; name = name_main; params = ([]); vars = []; pre = (record { opened = []; facts = ([]); locals = []; items = ((Data (Number (pos 64)) (Global name_g) (Of2 binary.Cons (Of unary.Vi (Number (pos 3))) Nil)) ∷ (Data (Number (pos 64)) (Global name_arr) (Of2 binary.Cons (Of unary.Vi (Number (pos 1))) (Of2 binary.Cons (Of unary.Vi (Number (pos 2))) (Of2 binary.Cons (Of unary.Vi (Number (pos 0))) (Of2 binary.Cons (Of unary.Vi (Number (pos 0))) Nil))))) ∷ (Data (Number (pos 64)) (Global name_x) (Of2 binary.Cons (Of unary.Vi (Number (pos 3))) Nil)) ∷ (Data (Number (pos 64)) (Global name_l) (Of2 binary.Cons (Of unary.Vi (Number (pos 0))) Nil)) ∷ []) }); post = (record { opened = (sort.List ∷ []); facts = ((Rel relation.Eq (Var 0 sort.Val) (Of unary.Vi (Number (pos 2)))) ∷ []); locals = []; items = ((Data (Number (pos 64)) (Global name_g) (Of2 binary.Cons (Of unary.Vi (Number (pos 3))) Nil)) ∷ (Data (Number (pos 64)) (Global name_arr) (Of2 binary.Cons (Of unary.Vi (Number (pos 1))) (Of2 binary.Cons (Of unary.Vi (Number (pos 2))) (Of2 binary.Cons (Of unary.Vi (Number (pos 0))) (Of2 binary.Cons (Of unary.Vi (Number (pos 0))) Nil))))) ∷ (Data (Number (pos 64)) (Global name_x) (Var 1 sort.List)) ∷ (Data (Number (pos 64)) (Global name_l) (Of2 binary.Cons Undef Nil)) ∷ []) }) }) (record { temps = (name_s ∷ name_t ∷ name_i ∷ name_x1 ∷ name_d0 ∷ name_p1 ∷ name_q1 ∷ []); body = (c.Then (c.Set 0 (c.Const 2)) (c.Then (c.Set 1 (c.Const 3)) (c.Then (c.OnLock lock.Make (c.Address (root.Global name_l 1) c.Here)) (c.Then (c.OnLock lock.Release (c.Address (root.Global name_l 1) c.Here)) (c.Then (c.Set 0 (c.Temp 1)) (c.Then (c.Set 4 (c.Binary two.Eq kind.Signed (c.Const 3) (c.Const 2))) (c.Then (c.OnLock lock.Acquire (c.Address (root.Global name_l 1) c.Here)) (c.Then (c.OnLock lock.Free (c.Address (root.Global name_l 1) c.Here)) (c.Then (c.Return (Some (c.Const 2))) c.End))))))))) }) (s.Then 1 (s.Set ([]) ([])) s.NoBlock (s.Then 2 (s.Set ([]) ([])) s.NoBlock (s.Then 3 (s.MakeLock 3 (record { name = name_ov; args = ([]) }) ([]) ([])) s.NoBlock (s.Then 4 (s.Fold name_ov 0 ([]) ((Of unary.Vi (Number (pos 3))) ∷ []) ([])) s.NoBlock (s.Then 5 (s.Set ([]) ([])) s.NoBlock (s.Then 6 (s.Release 3 4 ([])) s.NoBlock (s.Then 7 (s.Set ([]) ([])) s.NoBlock (s.Then 8 (s.Acquire 2 ([])) s.NoBlock (s.Then 9 (s.Unfold 4 ((name_k1 ∷ []) ∷ [])) (s.WithBlock (s.Then 10 (s.FreeLock 2 3 ([]) ([])) s.NoBlock (s.Then 11 (s.Return ((Of2 binary.Cons (Named name_k1) Nil) ∷ []) ([]) ([])) s.NoBlock s.End)) s.NoBlock) s.End))))))))) ≡ (RefusedAt 5 2 1)
unfolding computing
random_155 = refl

random_156 : body_verdict (record { predicates = ((record { name = name_ov; args = ([]); cases = ((record { opened = (sort.Val ∷ []); facts = ([]); locals = []; items = ((Data (Number (pos 64)) (Global name_x) (Of2 binary.Cons (Var 0 sort.Val) Nil)) ∷ []) }) ∷ []) }) ∷ []); specs = ((record { is_void = false; name = name_main; params = ([]); vars = []; pre = (record { opened = []; facts = ([]); locals = []; items = ((Data (Number (pos 64)) (Global name_g) (Of2 binary.Cons (Of unary.Vi (Number (pos 3))) Nil)) ∷ (Data (Number (pos 64)) (Global name_arr) (Of2 binary.Cons (Of unary.Vi (Number (pos 1))) (Of2 binary.Cons (Of unary.Vi (Number (pos 2))) (Of2 binary.Cons (Of unary.Vi (Number (pos 0))) (Of2 binary.Cons (Of unary.Vi (Number (pos 0))) Nil))))) ∷ (Data (Number (pos 64)) (Global name_x) (Of2 binary.Cons (Of unary.Vi (Number (pos 3))) Nil)) ∷ (Data (Number (pos 64)) (Global name_l) (Of2 binary.Cons (Of unary.Vi (Number (pos 0))) Nil)) ∷ []) }); post = (record { opened = (sort.List ∷ []); facts = ((Rel relation.Eq (Var 0 sort.Val) (Of unary.Vi (Number (pos 2)))) ∷ []); locals = []; items = ((Data (Number (pos 64)) (Global name_g) (Of2 binary.Cons (Of unary.Vi (Number (pos 3))) Nil)) ∷ (Data (Number (pos 64)) (Global name_arr) (Of2 binary.Cons (Of unary.Vi (Number (pos 1))) (Of2 binary.Cons (Of unary.Vi (Number (pos 2))) (Of2 binary.Cons (Of unary.Vi (Number (pos 0))) (Of2 binary.Cons (Of unary.Vi (Number (pos 0))) Nil))))) ∷ (Data (Number (pos 64)) (Global name_x) (Var 1 sort.List)) ∷ (Data (Number (pos 64)) (Global name_l) (Of2 binary.Cons Undef Nil)) ∷ []) }) }) ∷ []) }) (record { is_void = false; name = name_main; params = ([]); vars = []; pre = (record { opened = []; facts = ([]); locals = []; items = ((Data (Number (pos 64)) (Global name_g) (Of2 binary.Cons (Of unary.Vi (Number (pos 3))) Nil)) ∷ (Data (Number (pos 64)) (Global name_arr) (Of2 binary.Cons (Of unary.Vi (Number (pos 1))) (Of2 binary.Cons (Of unary.Vi (Number (pos 2))) (Of2 binary.Cons (Of unary.Vi (Number (pos 0))) (Of2 binary.Cons (Of unary.Vi (Number (pos 0))) Nil))))) ∷ (Data (Number (pos 64)) (Global name_x) (Of2 binary.Cons (Of unary.Vi (Number (pos 3))) Nil)) ∷ (Data (Number (pos 64)) (Global name_l) (Of2 binary.Cons (Of unary.Vi (Number (pos 0))) Nil)) ∷ []) }); post = (record { opened = (sort.List ∷ []); facts = ((Rel relation.Eq (Var 0 sort.Val) (Of unary.Vi (Number (pos 2)))) ∷ []); locals = []; items = ((Data (Number (pos 64)) (Global name_g) (Of2 binary.Cons (Of unary.Vi (Number (pos 3))) Nil)) ∷ (Data (Number (pos 64)) (Global name_arr) (Of2 binary.Cons (Of unary.Vi (Number (pos 1))) (Of2 binary.Cons (Of unary.Vi (Number (pos 2))) (Of2 binary.Cons (Of unary.Vi (Number (pos 0))) (Of2 binary.Cons (Of unary.Vi (Number (pos 0))) Nil))))) ∷ (Data (Number (pos 64)) (Global name_x) (Var 1 sort.List)) ∷ (Data (Number (pos 64)) (Global name_l) (Of2 binary.Cons Undef Nil)) ∷ []) }) }) (record { temps = (name_s ∷ name_t ∷ name_i ∷ name_x1 ∷ name_d0 ∷ name_p1 ∷ name_q1 ∷ []); body = (c.Then (c.Set 0 (c.Const 2)) (c.Then (c.Set 1 (c.Const 3)) (c.Then (c.OnLock lock.Make (c.Address (root.Global name_l 1) c.Here)) (c.Then (c.OnLock lock.Release (c.Address (root.Global name_l 1) c.Here)) (c.Then (c.Set 0 (c.Temp 1)) (c.Then (c.Set 4 (c.Binary two.Eq kind.Signed (c.Const 3) (c.Const 2))) (c.Then (c.OnLock lock.Acquire (c.Address (root.Global name_l 1) c.Here)) (c.Then (c.OnLock lock.Free (c.Address (root.Global name_l 1) c.Here)) (c.Then (c.Return (Some (c.Const 2))) c.End))))))))) }) (s.Then 1 (s.Set ([]) ([])) s.NoBlock (s.Then 2 (s.Set ([]) ([])) s.NoBlock (s.Then 3 (s.MakeLock 3 (record { name = name_ov; args = ([]) }) ([]) ([])) s.NoBlock (s.Then 4 (s.Fold name_ov 64 ([]) ((Of unary.Vi (Number (pos 3))) ∷ []) ([])) s.NoBlock (s.Then 5 (s.Release 3 4 ([])) s.NoBlock (s.Then 6 (s.Set ([]) ([])) s.NoBlock (s.Then 7 (s.Set ([]) ([])) s.NoBlock (s.Then 8 (s.Acquire 2 ([])) s.NoBlock (s.Then 9 (s.Unfold 4 ((name_k1 ∷ []) ∷ [])) (s.WithBlock (s.Then 10 (s.FreeLock 2 3 ([]) ([])) s.NoBlock (s.Then 11 (s.Return ((Of2 binary.Cons (Named name_k1) Nil) ∷ []) ([]) ([])) s.NoBlock s.End)) s.NoBlock) s.End))))))))) ≡ (RefusedAt 4 21 1)
unfolding computing
random_156 = refl

random_157 : body_verdict (record { predicates = ((record { name = name_ov; args = ([]); cases = ((record { opened = (sort.Val ∷ []); facts = ([]); locals = []; items = ((Data (Number (pos 64)) (Global name_x) (Of2 binary.Cons (Var 0 sort.Val) Nil)) ∷ []) }) ∷ []) }) ∷ []); specs = ((record { is_void = false; name = name_main; params = ([]); vars = []; pre = (record { opened = []; facts = ([]); locals = []; items = ((Data (Number (pos 64)) (Global name_g) (Of2 binary.Cons (Of unary.Vi (Number (pos 3))) Nil)) ∷ (Data (Number (pos 64)) (Global name_arr) (Of2 binary.Cons (Of unary.Vi (Number (pos 1))) (Of2 binary.Cons (Of unary.Vi (Number (pos 2))) (Of2 binary.Cons (Of unary.Vi (Number (pos 0))) (Of2 binary.Cons (Of unary.Vi (Number (pos 0))) Nil))))) ∷ (Data (Number (pos 64)) (Global name_x) (Of2 binary.Cons (Of unary.Vi (Number (pos 3))) Nil)) ∷ (Data (Number (pos 64)) (Global name_l) (Of2 binary.Cons (Of unary.Vi (Number (pos 0))) Nil)) ∷ []) }); post = (record { opened = (sort.List ∷ []); facts = ((Rel relation.Eq (Var 0 sort.Val) (Of unary.Vi (Number (pos 2)))) ∷ []); locals = []; items = ((Data (Number (pos 64)) (Global name_g) (Of2 binary.Cons (Of unary.Vi (Number (pos 3))) Nil)) ∷ (Data (Number (pos 64)) (Global name_arr) (Of2 binary.Cons (Of unary.Vi (Number (pos 1))) (Of2 binary.Cons (Of unary.Vi (Number (pos 2))) (Of2 binary.Cons (Of unary.Vi (Number (pos 0))) (Of2 binary.Cons (Of unary.Vi (Number (pos 0))) Nil))))) ∷ (Data (Number (pos 64)) (Global name_x) (Var 1 sort.List)) ∷ (Data (Number (pos 64)) (Global name_l) (Of2 binary.Cons Undef Nil)) ∷ []) }) }) ∷ []) }) (record { is_void = false; name = name_main; params = ([]); vars = []; pre = (record { opened = []; facts = ([]); locals = []; items = ((Data (Number (pos 64)) (Global name_g) (Of2 binary.Cons (Of unary.Vi (Number (pos 3))) Nil)) ∷ (Data (Number (pos 64)) (Global name_arr) (Of2 binary.Cons (Of unary.Vi (Number (pos 1))) (Of2 binary.Cons (Of unary.Vi (Number (pos 2))) (Of2 binary.Cons (Of unary.Vi (Number (pos 0))) (Of2 binary.Cons (Of unary.Vi (Number (pos 0))) Nil))))) ∷ (Data (Number (pos 64)) (Global name_x) (Of2 binary.Cons (Of unary.Vi (Number (pos 3))) Nil)) ∷ (Data (Number (pos 64)) (Global name_l) (Of2 binary.Cons (Of unary.Vi (Number (pos 0))) Nil)) ∷ []) }); post = (record { opened = (sort.List ∷ []); facts = ((Rel relation.Eq (Var 0 sort.Val) (Of unary.Vi (Number (pos 2)))) ∷ []); locals = []; items = ((Data (Number (pos 64)) (Global name_g) (Of2 binary.Cons (Of unary.Vi (Number (pos 3))) Nil)) ∷ (Data (Number (pos 64)) (Global name_arr) (Of2 binary.Cons (Of unary.Vi (Number (pos 1))) (Of2 binary.Cons (Of unary.Vi (Number (pos 2))) (Of2 binary.Cons (Of unary.Vi (Number (pos 0))) (Of2 binary.Cons (Of unary.Vi (Number (pos 0))) Nil))))) ∷ (Data (Number (pos 64)) (Global name_x) (Var 1 sort.List)) ∷ (Data (Number (pos 64)) (Global name_l) (Of2 binary.Cons Undef Nil)) ∷ []) }) }) (record { temps = (name_s ∷ name_t ∷ name_i ∷ name_x1 ∷ name_d0 ∷ name_p1 ∷ name_q1 ∷ []); body = (c.Then (c.Set 0 (c.Const 2)) (c.Then (c.Set 1 (c.Const 3)) (c.Then (c.OnLock lock.Make (c.Address (root.Global name_l 1) c.Here)) (c.Then (c.OnLock lock.Release (c.Address (root.Global name_l 1) c.Here)) (c.Then (c.Set 0 (c.Temp 1)) (c.Then (c.Set 4 (c.Binary two.Eq kind.Signed (c.Const 3) (c.Const 2))) (c.Then (c.OnLock lock.Acquire (c.Address (root.Global name_l 1) c.Here)) (c.Then (c.OnLock lock.Free (c.Address (root.Global name_l 1) c.Here)) (c.Then (c.Return (Some (c.Const 2))) c.End))))))))) }) (s.Then 1 (s.Set ([]) ([])) s.NoBlock (s.Then 2 (s.Set ([]) ([])) s.NoBlock (s.Then 3 (s.MakeLock 3 (record { name = name_ov; args = ([]) }) ([]) ([])) s.NoBlock (s.Then 4 (s.Fold name_ov 0 ([]) ((Of unary.Vi (Number (pos 3))) ∷ []) ([])) s.NoBlock (s.Then 5 (s.Release 3 4 ([])) s.NoBlock (s.Then 6 (s.Set ([]) ([])) s.NoBlock (s.Then 7 (s.Set ([]) ([])) s.NoBlock (s.Then 8 (s.Acquire 1 ([])) s.NoBlock (s.Then 9 (s.Unfold 4 ((name_k1 ∷ []) ∷ [])) (s.WithBlock (s.Then 10 (s.FreeLock 2 3 ([]) ([])) s.NoBlock (s.Then 11 (s.Return ((Of2 binary.Cons (Named name_k1) Nil) ∷ []) ([]) ([])) s.NoBlock s.End)) s.NoBlock) s.End))))))))) ≡ (RefusedAt 8 17 1)
unfolding computing
random_157 = refl

random_158 : body_verdict (record { predicates = ([]); specs = ((record { is_void = true; name = name_f; params = ([]); vars = []; pre = (record { opened = []; facts = ([]); locals = []; items = ((Data (Number (pos 64)) (Global name_arr) (Of2 binary.Cons (Of unary.Vi (Number (pos 1))) (Of2 binary.Cons (Of unary.Vi (Number (pos 2))) (Of2 binary.Cons (Of unary.Vi (Number (pos 0))) (Of2 binary.Cons (Of unary.Vi (Number (pos 0))) Nil))))) ∷ []) }); post = (record { opened = []; facts = ([]); locals = []; items = ((Data (Number (pos 64)) (Global name_arr) (Of2 binary.Cons (Of unary.Vi (Number (pos 1))) (Of2 binary.Cons (Of unary.Vi (Number (pos 2))) (Of2 binary.Cons (Of unary.Vi (Number (pos 0))) (Of2 binary.Cons (Of unary.Vi (Number (pos 0))) Nil))))) ∷ []) }) }) ∷ (record { is_void = false; name = name_main; params = ([]); vars = []; pre = (record { opened = []; facts = ([]); locals = []; items = ((Data (Number (pos 64)) (Global name_arr) (Of2 binary.Cons (Of unary.Vi (Number (pos 1))) (Of2 binary.Cons (Of unary.Vi (Number (pos 2))) (Of2 binary.Cons (Of unary.Vi (Number (pos 0))) (Of2 binary.Cons (Of unary.Vi (Number (pos 0))) Nil))))) ∷ []) }); post = (record { opened = []; facts = ((Rel relation.Eq (Var 0 sort.Val) (Of unary.Vi (Number (pos 0)))) ∷ []); locals = []; items = ((Data (Number (pos 64)) (Global name_arr) (Of2 binary.Cons (Of unary.Vi (Number (pos 1))) (Of2 binary.Cons (Of unary.Vi (Number (pos 2))) (Of2 binary.Cons (Of unary.Vi (Number (pos 0))) (Of2 binary.Cons (Of unary.Vi (Number (pos 0))) Nil))))) ∷ []) }) }) ∷ []) }) (record { is_void = true; name = name_f; params = ([]); vars = []; pre = (record { opened = []; facts = ([]); locals = []; items = ((Data (Number (pos 64)) (Global name_arr) (Of2 binary.Cons (Of unary.Vi (Number (pos 1))) (Of2 binary.Cons (Of unary.Vi (Number (pos 2))) (Of2 binary.Cons (Of unary.Vi (Number (pos 0))) (Of2 binary.Cons (Of unary.Vi (Number (pos 0))) Nil))))) ∷ []) }); post = (record { opened = []; facts = ([]); locals = []; items = ((Data (Number (pos 64)) (Global name_arr) (Of2 binary.Cons (Of unary.Vi (Number (pos 1))) (Of2 binary.Cons (Of unary.Vi (Number (pos 2))) (Of2 binary.Cons (Of unary.Vi (Number (pos 0))) (Of2 binary.Cons (Of unary.Vi (Number (pos 0))) Nil))))) ∷ []) }) }) (record { temps = (name_s ∷ name_t ∷ name_i ∷ name_x1 ∷ name_d0 ∷ name_p1 ∷ name_q1 ∷ []); body = (c.Then (c.Set 0 (c.Const 1)) (c.Then (c.Set 1 (c.Const 2)) (c.Then (c.Set 4 (c.Binary two.Mul kind.Signed (c.Const 3) (c.Const 1))) (c.Then (c.Set 0 (c.Temp 1)) (c.Then (c.Return None) c.End))))) }) (s.Then 1 (s.Set ([]) ([])) s.NoBlock (s.Then 2 (s.Set ([]) ([])) s.NoBlock (s.Then 3 (s.Set ([]) ([])) s.NoBlock (s.Then 4 (s.Pose (record { opened = []; facts = ([]); locals = ((name_s, (Of unary.Vi (Number (pos 2)))) ∷ (name_t, (Of unary.Vi (Number (pos 2)))) ∷ (name_d0, (Of unary.Vi (Number (pos 3)))) ∷ []); items = ((Data (Number (pos 64)) (Global name_arr) (Of2 binary.Cons (Of unary.Vi (Number (pos 1))) (Of2 binary.Cons (Of unary.Vi (Number (pos 2))) (Of2 binary.Cons (Of unary.Vi (Number (pos 0))) (Of2 binary.Cons (Of unary.Vi (Number (pos 0))) Nil))))) ∷ []) }) ([]) ([])) (s.WithBlock (s.Then 5 (s.Meet ([]) ([])) s.NoBlock s.End) s.NoBlock) (s.Then 6 (s.Return ([]) ([]) ([])) s.NoBlock s.End))))) ≡ (RefusedAt 5 37 4)
unfolding computing
random_158 = refl

random_159 : body_verdict (record { predicates = ([]); specs = ((record { is_void = true; name = name_f; params = ([]); vars = []; pre = (record { opened = []; facts = ([]); locals = []; items = ((Data (Number (pos 64)) (Global name_arr) (Of2 binary.Cons (Of unary.Vi (Number (pos 1))) (Of2 binary.Cons (Of unary.Vi (Number (pos 2))) (Of2 binary.Cons (Of unary.Vi (Number (pos 0))) (Of2 binary.Cons (Of unary.Vi (Number (pos 0))) Nil))))) ∷ []) }); post = (record { opened = []; facts = ([]); locals = []; items = ((Data (Number (pos 64)) (Global name_arr) (Of2 binary.Cons (Of unary.Vi (Number (pos 1))) (Of2 binary.Cons (Of unary.Vi (Number (pos 2))) (Of2 binary.Cons (Of unary.Vi (Number (pos 0))) (Of2 binary.Cons (Of unary.Vi (Number (pos 0))) Nil))))) ∷ []) }) }) ∷ (record { is_void = false; name = name_main; params = ([]); vars = []; pre = (record { opened = []; facts = ([]); locals = []; items = ((Data (Number (pos 64)) (Global name_arr) (Of2 binary.Cons (Of unary.Vi (Number (pos 1))) (Of2 binary.Cons (Of unary.Vi (Number (pos 2))) (Of2 binary.Cons (Of unary.Vi (Number (pos 0))) (Of2 binary.Cons (Of unary.Vi (Number (pos 0))) Nil))))) ∷ []) }); post = (record { opened = []; facts = ((Rel relation.Eq (Var 0 sort.Val) (Of unary.Vi (Number (pos 0)))) ∷ []); locals = []; items = ((Data (Number (pos 64)) (Global name_arr) (Of2 binary.Cons (Of unary.Vi (Number (pos 1))) (Of2 binary.Cons (Of unary.Vi (Number (pos 2))) (Of2 binary.Cons (Of unary.Vi (Number (pos 0))) (Of2 binary.Cons (Of unary.Vi (Number (pos 0))) Nil))))) ∷ []) }) }) ∷ []) }) (record { is_void = true; name = name_f; params = ([]); vars = []; pre = (record { opened = []; facts = ([]); locals = []; items = ((Data (Number (pos 64)) (Global name_arr) (Of2 binary.Cons (Of unary.Vi (Number (pos 1))) (Of2 binary.Cons (Of unary.Vi (Number (pos 2))) (Of2 binary.Cons (Of unary.Vi (Number (pos 0))) (Of2 binary.Cons (Of unary.Vi (Number (pos 0))) Nil))))) ∷ []) }); post = (record { opened = []; facts = ([]); locals = []; items = ((Data (Number (pos 64)) (Global name_arr) (Of2 binary.Cons (Of unary.Vi (Number (pos 1))) (Of2 binary.Cons (Of unary.Vi (Number (pos 2))) (Of2 binary.Cons (Of unary.Vi (Number (pos 0))) (Of2 binary.Cons (Of unary.Vi (Number (pos 0))) Nil))))) ∷ []) }) }) (record { temps = (name_s ∷ name_t ∷ name_i ∷ name_x1 ∷ name_d0 ∷ name_p1 ∷ name_q1 ∷ []); body = (c.Then (c.Set 0 (c.Const 1)) (c.Then (c.Set 1 (c.Const 2)) (c.Then (c.Set 4 (c.Binary two.Mul kind.Signed (c.Const 3) (c.Const 1))) (c.Then (c.Set 0 (c.Temp 1)) (c.Then (c.Return None) c.End))))) }) (s.Then 1 (s.Set ([]) ([])) s.NoBlock (s.Then 2 (s.Set ([]) ([])) s.NoBlock (s.Then 3 (s.Set ([]) ([])) s.NoBlock (s.Then 4 (s.Set ([]) ([])) s.NoBlock (s.Then 5 (s.Set ([]) ([])) s.NoBlock (s.Then 6 (s.Pose (record { opened = []; facts = ([]); locals = ((name_s, (Of unary.Vi (Number (pos 2)))) ∷ (name_t, (Of unary.Vi (Number (pos 2)))) ∷ (name_d0, (Of unary.Vi (Number (pos 3)))) ∷ []); items = ((Data (Number (pos 4)) (Global name_arr) (Of2 binary.Cons (Of unary.Vi (Number (pos 1))) (Of2 binary.Cons (Of unary.Vi (Number (pos 2))) (Of2 binary.Cons (Of unary.Vi (Number (pos 0))) (Of2 binary.Cons (Of unary.Vi (Number (pos 0))) Nil))))) ∷ []) }) ([]) ([])) (s.WithBlock (s.Then 7 (s.Meet ([]) ([])) s.NoBlock s.End) s.NoBlock) (s.Then 8 (s.Return ([]) ([]) ([])) s.NoBlock s.End))))))) ≡ (RefusedAt 5 2 1)
unfolding computing
random_159 = refl

random_160 : body_verdict (record { predicates = ([]); specs = ((record { is_void = true; name = name_f; params = ([]); vars = []; pre = (record { opened = []; facts = ([]); locals = []; items = ((Data (Number (pos 64)) (Global name_arr) (Of2 binary.Cons (Of unary.Vi (Number (pos 1))) (Of2 binary.Cons (Of unary.Vi (Number (pos 2))) (Of2 binary.Cons (Of unary.Vi (Number (pos 0))) (Of2 binary.Cons (Of unary.Vi (Number (pos 0))) Nil))))) ∷ []) }); post = (record { opened = []; facts = ([]); locals = []; items = ((Data (Number (pos 64)) (Global name_arr) (Of2 binary.Cons (Of unary.Vi (Number (pos 1))) (Of2 binary.Cons (Of unary.Vi (Number (pos 2))) (Of2 binary.Cons (Of unary.Vi (Number (pos 0))) (Of2 binary.Cons (Of unary.Vi (Number (pos 0))) Nil))))) ∷ []) }) }) ∷ (record { is_void = false; name = name_main; params = ([]); vars = []; pre = (record { opened = []; facts = ([]); locals = []; items = ((Data (Number (pos 64)) (Global name_arr) (Of2 binary.Cons (Of unary.Vi (Number (pos 1))) (Of2 binary.Cons (Of unary.Vi (Number (pos 2))) (Of2 binary.Cons (Of unary.Vi (Number (pos 0))) (Of2 binary.Cons (Of unary.Vi (Number (pos 0))) Nil))))) ∷ []) }); post = (record { opened = []; facts = ((Rel relation.Eq (Var 0 sort.Val) (Of unary.Vi (Number (pos 0)))) ∷ []); locals = []; items = ((Data (Number (pos 64)) (Global name_arr) (Of2 binary.Cons (Of unary.Vi (Number (pos 1))) (Of2 binary.Cons (Of unary.Vi (Number (pos 2))) (Of2 binary.Cons (Of unary.Vi (Number (pos 0))) (Of2 binary.Cons (Of unary.Vi (Number (pos 0))) Nil))))) ∷ []) }) }) ∷ []) }) (record { is_void = true; name = name_f; params = ([]); vars = []; pre = (record { opened = []; facts = ([]); locals = []; items = ((Data (Number (pos 64)) (Global name_arr) (Of2 binary.Cons (Of unary.Vi (Number (pos 1))) (Of2 binary.Cons (Of unary.Vi (Number (pos 2))) (Of2 binary.Cons (Of unary.Vi (Number (pos 0))) (Of2 binary.Cons (Of unary.Vi (Number (pos 0))) Nil))))) ∷ []) }); post = (record { opened = []; facts = ([]); locals = []; items = ((Data (Number (pos 64)) (Global name_arr) (Of2 binary.Cons (Of unary.Vi (Number (pos 1))) (Of2 binary.Cons (Of unary.Vi (Number (pos 2))) (Of2 binary.Cons (Of unary.Vi (Number (pos 0))) (Of2 binary.Cons (Of unary.Vi (Number (pos 0))) Nil))))) ∷ []) }) }) (record { temps = (name_s ∷ name_t ∷ name_i ∷ name_x1 ∷ name_d0 ∷ name_p1 ∷ name_q1 ∷ []); body = (c.Then (c.Set 0 (c.Const 1)) (c.Then (c.Set 1 (c.Const 2)) (c.Then (c.Set 4 (c.Binary two.Mul kind.Signed (c.Const 3) (c.Const 1))) (c.Then (c.Set 0 (c.Temp 1)) (c.Then (c.Return None) c.End))))) }) (s.Then 1 (s.Set ([]) ([])) s.NoBlock (s.Then 2 (s.Set ([]) ([])) s.NoBlock (s.Then 3 (s.Set ([]) ([])) s.NoBlock (s.Then 4 (s.Set ([]) ([])) s.NoBlock (s.Then 5 (s.Pose (record { opened = []; facts = ([]); locals = ((name_s, (Of unary.Vi (Number (pos 2)))) ∷ (name_arr, (Of unary.Vi (Number (pos 2)))) ∷ (name_d0, (Of unary.Vi (Number (pos 3)))) ∷ []); items = ((Data (Number (pos 64)) (Global name_arr) (Of2 binary.Cons (Of unary.Vi (Number (pos 1))) (Of2 binary.Cons (Of unary.Vi (Number (pos 2))) (Of2 binary.Cons (Of unary.Vi (Number (pos 0))) (Of2 binary.Cons (Of unary.Vi (Number (pos 0))) Nil))))) ∷ []) }) ([]) ([])) (s.WithBlock (s.Then 6 (s.Meet ([]) ([])) s.NoBlock s.End) s.NoBlock) (s.Then 7 (s.Return ([]) ([]) ([])) s.NoBlock s.End)))))) ≡ (RefusedAt 5 12 4)
unfolding computing
random_160 = refl

random_161 : body_verdict (record { predicates = ([]); specs = ((record { is_void = true; name = name_f; params = ([]); vars = []; pre = (record { opened = []; facts = ([]); locals = []; items = ((Data (Number (pos 64)) (Global name_arr) (Of2 binary.Cons (Of unary.Vi (Number (pos 1))) (Of2 binary.Cons (Of unary.Vi (Number (pos 2))) (Of2 binary.Cons (Of unary.Vi (Number (pos 0))) (Of2 binary.Cons (Of unary.Vi (Number (pos 0))) Nil))))) ∷ []) }); post = (record { opened = []; facts = ([]); locals = []; items = ((Data (Number (pos 64)) (Global name_arr) (Of2 binary.Cons (Of unary.Vi (Number (pos 1))) (Of2 binary.Cons (Of unary.Vi (Number (pos 2))) (Of2 binary.Cons (Of unary.Vi (Number (pos 0))) (Of2 binary.Cons (Of unary.Vi (Number (pos 0))) Nil))))) ∷ []) }) }) ∷ (record { is_void = false; name = name_main; params = ([]); vars = []; pre = (record { opened = []; facts = ([]); locals = []; items = ((Data (Number (pos 64)) (Global name_arr) (Of2 binary.Cons (Of unary.Vi (Number (pos 1))) (Of2 binary.Cons (Of unary.Vi (Number (pos 2))) (Of2 binary.Cons (Of unary.Vi (Number (pos 0))) (Of2 binary.Cons (Of unary.Vi (Number (pos 0))) Nil))))) ∷ []) }); post = (record { opened = []; facts = ((Rel relation.Eq (Var 0 sort.Val) (Of unary.Vi (Number (pos 0)))) ∷ []); locals = []; items = ((Data (Number (pos 64)) (Global name_arr) (Of2 binary.Cons (Of unary.Vi (Number (pos 1))) (Of2 binary.Cons (Of unary.Vi (Number (pos 2))) (Of2 binary.Cons (Of unary.Vi (Number (pos 0))) (Of2 binary.Cons (Of unary.Vi (Number (pos 0))) Nil))))) ∷ []) }) }) ∷ []) }) (record { is_void = true; name = name_f; params = ([]); vars = []; pre = (record { opened = []; facts = ([]); locals = []; items = ((Data (Number (pos 64)) (Global name_arr) (Of2 binary.Cons (Of unary.Vi (Number (pos 1))) (Of2 binary.Cons (Of unary.Vi (Number (pos 2))) (Of2 binary.Cons (Of unary.Vi (Number (pos 0))) (Of2 binary.Cons (Of unary.Vi (Number (pos 0))) Nil))))) ∷ []) }); post = (record { opened = []; facts = ([]); locals = []; items = ((Data (Number (pos 64)) (Global name_arr) (Of2 binary.Cons (Of unary.Vi (Number (pos 1))) (Of2 binary.Cons (Of unary.Vi (Number (pos 2))) (Of2 binary.Cons (Of unary.Vi (Number (pos 0))) (Of2 binary.Cons (Of unary.Vi (Number (pos 0))) Nil))))) ∷ []) }) }) (record { temps = (name_s ∷ name_t ∷ name_i ∷ name_x1 ∷ name_d0 ∷ name_p1 ∷ name_q1 ∷ []); body = (c.Then (c.Set 0 (c.Const 1)) (c.Then (c.Set 1 (c.Const 2)) (c.Then (c.Set 4 (c.Binary two.Mul kind.Signed (c.Const 3) (c.Const 1))) (c.Then (c.Set 0 (c.Temp 1)) (c.Then (c.Return None) c.End))))) }) (s.Then 1 (s.Set ([]) ([])) s.NoBlock (s.Then 2 (s.Set ([]) ([])) s.NoBlock (s.Then 3 (s.Set ([]) ([])) s.NoBlock (s.Then 4 (s.Set ([]) ([])) s.NoBlock (s.Then 5 (s.Pose (record { opened = []; facts = ([]); locals = ((name_s, (Of unary.Vi (Number (pos 2)))) ∷ (name_t, (Of unary.Vi (Number (pos 0)))) ∷ (name_d0, (Of unary.Vi (Number (pos 3)))) ∷ []); items = ((Data (Number (pos 64)) (Global name_arr) (Of2 binary.Cons (Of unary.Vi (Number (pos 1))) (Of2 binary.Cons (Of unary.Vi (Number (pos 2))) (Of2 binary.Cons (Of unary.Vi (Number (pos 0))) (Of2 binary.Cons (Of unary.Vi (Number (pos 0))) Nil))))) ∷ []) }) ([]) ([])) (s.WithBlock (s.Then 6 (s.Meet ([]) ([])) s.NoBlock s.End) s.NoBlock) (s.Then 7 (s.Return ([]) ([]) ([])) s.NoBlock s.End)))))) ≡ (RefusedAt 6 37 4)
unfolding computing
random_161 = refl

random_162 : body_verdict (record { predicates = ([]); specs = ((record { is_void = true; name = name_f; params = ([]); vars = []; pre = (record { opened = []; facts = ([]); locals = []; items = ((Data (Number (pos 64)) (Global name_arr) (Of2 binary.Cons (Of unary.Vi (Number (pos 1))) (Of2 binary.Cons (Of unary.Vi (Number (pos 2))) (Of2 binary.Cons (Of unary.Vi (Number (pos 0))) (Of2 binary.Cons (Of unary.Vi (Number (pos 0))) Nil))))) ∷ []) }); post = (record { opened = []; facts = ([]); locals = []; items = ((Data (Number (pos 64)) (Global name_arr) (Of2 binary.Cons (Of unary.Vi (Number (pos 1))) (Of2 binary.Cons (Of unary.Vi (Number (pos 2))) (Of2 binary.Cons (Of unary.Vi (Number (pos 0))) (Of2 binary.Cons (Of unary.Vi (Number (pos 0))) Nil))))) ∷ []) }) }) ∷ (record { is_void = false; name = name_main; params = ([]); vars = []; pre = (record { opened = []; facts = ([]); locals = []; items = ((Data (Number (pos 64)) (Global name_arr) (Of2 binary.Cons (Of unary.Vi (Number (pos 1))) (Of2 binary.Cons (Of unary.Vi (Number (pos 2))) (Of2 binary.Cons (Of unary.Vi (Number (pos 0))) (Of2 binary.Cons (Of unary.Vi (Number (pos 0))) Nil))))) ∷ []) }); post = (record { opened = []; facts = ((Rel relation.Eq (Var 0 sort.Val) (Of unary.Vi (Number (pos 0)))) ∷ []); locals = []; items = ((Data (Number (pos 64)) (Global name_arr) (Of2 binary.Cons (Of unary.Vi (Number (pos 1))) (Of2 binary.Cons (Of unary.Vi (Number (pos 2))) (Of2 binary.Cons (Of unary.Vi (Number (pos 0))) (Of2 binary.Cons (Of unary.Vi (Number (pos 0))) Nil))))) ∷ []) }) }) ∷ []) }) (record { is_void = true; name = name_f; params = ([]); vars = []; pre = (record { opened = []; facts = ([]); locals = []; items = ((Data (Number (pos 64)) (Global name_arr) (Of2 binary.Cons (Of unary.Vi (Number (pos 1))) (Of2 binary.Cons (Of unary.Vi (Number (pos 2))) (Of2 binary.Cons (Of unary.Vi (Number (pos 0))) (Of2 binary.Cons (Of unary.Vi (Number (pos 0))) Nil))))) ∷ []) }); post = (record { opened = []; facts = ([]); locals = []; items = ((Data (Number (pos 64)) (Global name_arr) (Of2 binary.Cons (Of unary.Vi (Number (pos 1))) (Of2 binary.Cons (Of unary.Vi (Number (pos 2))) (Of2 binary.Cons (Of unary.Vi (Number (pos 0))) (Of2 binary.Cons (Of unary.Vi (Number (pos 0))) Nil))))) ∷ []) }) }) (record { temps = (name_s ∷ name_t ∷ name_i ∷ name_x1 ∷ name_d0 ∷ name_p1 ∷ name_q1 ∷ []); body = (c.Then (c.Set 0 (c.Const 1)) (c.Then (c.Set 1 (c.Const 2)) (c.Then (c.Set 4 (c.Binary two.Mul kind.Signed (c.Const 3) (c.Const 1))) (c.Then (c.Set 0 (c.Temp 1)) (c.Then (c.Return None) c.End))))) }) (s.Then 1 (s.Set ([]) ([])) s.NoBlock (s.Then 2 (s.Set ([]) ([])) s.NoBlock (s.Then 3 (s.Set ([]) ([])) s.NoBlock (s.Then 4 (s.Set ([]) ([])) s.NoBlock (s.Then 5 (s.Pose (record { opened = []; facts = ([]); locals = ((name_s, (Of unary.Vi (Number (pos 2)))) ∷ (name_t, (Of unary.Vi (Number (pos 2)))) ∷ (name_d0, (Of unary.Vi (Number (pos 3)))) ∷ []); items = ((Data (Number (pos 64)) (Global name_arr) (Of2 binary.Cons (Of unary.Vi (Number (pos 1))) (Of2 binary.Cons (Of unary.Vi (Number (pos 2))) (Of2 binary.Cons (Of unary.Vi (Number (pos 0))) (Of2 binary.Cons (Of unary.Vi (Number (pos 0))) Nil))))) ∷ []) }) ([]) ([])) (s.WithBlock (s.Then 6 (s.Agree 0 1 ([])) s.NoBlock (s.Then 7 (s.Meet ([]) ([])) s.NoBlock s.End)) s.NoBlock) (s.Then 8 (s.Return ([]) ([]) ([])) s.NoBlock s.End)))))) ≡ (RefusedAt 6 33 1)
unfolding computing
random_162 = refl

random_163 : body_verdict (record { predicates = ([]); specs = ((record { is_void = true; name = name_f; params = ([]); vars = []; pre = (record { opened = []; facts = ([]); locals = []; items = ((Data (Number (pos 64)) (Global name_arr) (Of2 binary.Cons (Of unary.Vi (Number (pos 1))) (Of2 binary.Cons (Of unary.Vi (Number (pos 2))) (Of2 binary.Cons (Of unary.Vi (Number (pos 0))) (Of2 binary.Cons (Of unary.Vi (Number (pos 0))) Nil))))) ∷ []) }); post = (record { opened = []; facts = ([]); locals = []; items = ((Data (Number (pos 64)) (Global name_arr) (Of2 binary.Cons (Of unary.Vi (Number (pos 1))) (Of2 binary.Cons (Of unary.Vi (Number (pos 2))) (Of2 binary.Cons (Of unary.Vi (Number (pos 0))) (Of2 binary.Cons (Of unary.Vi (Number (pos 0))) Nil))))) ∷ []) }) }) ∷ (record { is_void = false; name = name_main; params = ([]); vars = []; pre = (record { opened = []; facts = ([]); locals = []; items = ((Data (Number (pos 64)) (Global name_arr) (Of2 binary.Cons (Of unary.Vi (Number (pos 1))) (Of2 binary.Cons (Of unary.Vi (Number (pos 2))) (Of2 binary.Cons (Of unary.Vi (Number (pos 0))) (Of2 binary.Cons (Of unary.Vi (Number (pos 0))) Nil))))) ∷ []) }); post = (record { opened = []; facts = ((Rel relation.Eq (Var 0 sort.Val) (Of unary.Vi (Number (pos 0)))) ∷ []); locals = []; items = ((Data (Number (pos 64)) (Global name_arr) (Of2 binary.Cons (Of unary.Vi (Number (pos 1))) (Of2 binary.Cons (Of unary.Vi (Number (pos 2))) (Of2 binary.Cons (Of unary.Vi (Number (pos 0))) (Of2 binary.Cons (Of unary.Vi (Number (pos 0))) Nil))))) ∷ []) }) }) ∷ []) }) (record { is_void = true; name = name_f; params = ([]); vars = []; pre = (record { opened = []; facts = ([]); locals = []; items = ((Data (Number (pos 64)) (Global name_arr) (Of2 binary.Cons (Of unary.Vi (Number (pos 1))) (Of2 binary.Cons (Of unary.Vi (Number (pos 2))) (Of2 binary.Cons (Of unary.Vi (Number (pos 0))) (Of2 binary.Cons (Of unary.Vi (Number (pos 0))) Nil))))) ∷ []) }); post = (record { opened = []; facts = ([]); locals = []; items = ((Data (Number (pos 64)) (Global name_arr) (Of2 binary.Cons (Of unary.Vi (Number (pos 1))) (Of2 binary.Cons (Of unary.Vi (Number (pos 2))) (Of2 binary.Cons (Of unary.Vi (Number (pos 0))) (Of2 binary.Cons (Of unary.Vi (Number (pos 0))) Nil))))) ∷ []) }) }) (record { temps = (name_s ∷ name_t ∷ name_i ∷ name_x1 ∷ name_d0 ∷ name_p1 ∷ name_q1 ∷ []); body = (c.Then (c.Set 0 (c.Const 1)) (c.Then (c.Set 1 (c.Const 2)) (c.Then (c.Set 4 (c.Binary two.Mul kind.Signed (c.Const 3) (c.Const 1))) (c.Then (c.Set 0 (c.Temp 1)) (c.Then (c.Return None) c.End))))) }) (s.Then 1 (s.Set ([]) ([])) s.NoBlock (s.Then 2 (s.Meet ([]) ([])) s.NoBlock (s.Then 3 (s.Set ([]) ([])) s.NoBlock (s.Then 4 (s.Set ([]) ([])) s.NoBlock (s.Then 5 (s.Pose (record { opened = []; facts = ([]); locals = ((name_s, (Of unary.Vi (Number (pos 2)))) ∷ (name_t, (Of unary.Vi (Number (pos 2)))) ∷ (name_d0, (Of unary.Vi (Number (pos 3)))) ∷ []); items = ((Data (Number (pos 64)) (Global name_arr) (Of2 binary.Cons (Of unary.Vi (Number (pos 1))) (Of2 binary.Cons (Of unary.Vi (Number (pos 2))) (Of2 binary.Cons (Of unary.Vi (Number (pos 0))) (Of2 binary.Cons (Of unary.Vi (Number (pos 0))) Nil))))) ∷ []) }) ([]) ([])) (s.WithBlock (s.Then 6 (s.Meet ([]) ([])) s.NoBlock s.End) s.NoBlock) (s.Then 7 (s.Return ([]) ([]) ([])) s.NoBlock s.End)))))) ≡ (RefusedAt 2 37 1)
unfolding computing
random_163 = refl

random_164 : body_verdict (record { predicates = ([]); specs = ((record { is_void = true; name = name_f; params = ([]); vars = []; pre = (record { opened = []; facts = ([]); locals = []; items = ((Data (Number (pos 64)) (Global name_arr) (Of2 binary.Cons (Of unary.Vi (Number (pos 1))) (Of2 binary.Cons (Of unary.Vi (Number (pos 2))) (Of2 binary.Cons (Of unary.Vi (Number (pos 0))) (Of2 binary.Cons (Of unary.Vi (Number (pos 0))) Nil))))) ∷ []) }); post = (record { opened = []; facts = ([]); locals = []; items = ((Data (Number (pos 64)) (Global name_arr) (Of2 binary.Cons (Of unary.Vi (Number (pos 1))) (Of2 binary.Cons (Of unary.Vi (Number (pos 2))) (Of2 binary.Cons (Of unary.Vi (Number (pos 0))) (Of2 binary.Cons (Of unary.Vi (Number (pos 0))) Nil))))) ∷ []) }) }) ∷ (record { is_void = false; name = name_main; params = ([]); vars = []; pre = (record { opened = []; facts = ([]); locals = []; items = ((Data (Number (pos 64)) (Global name_arr) (Of2 binary.Cons (Of unary.Vi (Number (pos 1))) (Of2 binary.Cons (Of unary.Vi (Number (pos 2))) (Of2 binary.Cons (Of unary.Vi (Number (pos 0))) (Of2 binary.Cons (Of unary.Vi (Number (pos 0))) Nil))))) ∷ []) }); post = (record { opened = []; facts = ((Rel relation.Eq (Var 0 sort.Val) (Of unary.Vi (Number (pos 0)))) ∷ []); locals = []; items = ((Data (Number (pos 64)) (Global name_arr) (Of2 binary.Cons (Of unary.Vi (Number (pos 1))) (Of2 binary.Cons (Of unary.Vi (Number (pos 2))) (Of2 binary.Cons (Of unary.Vi (Number (pos 0))) (Of2 binary.Cons (Of unary.Vi (Number (pos 0))) Nil))))) ∷ []) }) }) ∷ []) }) (record { is_void = true; name = name_f; params = ([]); vars = []; pre = (record { opened = []; facts = ([]); locals = []; items = ((Data (Number (pos 64)) (Global name_arr) (Of2 binary.Cons (Of unary.Vi (Number (pos 1))) (Of2 binary.Cons (Of unary.Vi (Number (pos 2))) (Of2 binary.Cons (Of unary.Vi (Number (pos 0))) (Of2 binary.Cons (Of unary.Vi (Number (pos 0))) Nil))))) ∷ []) }); post = (record { opened = []; facts = ([]); locals = []; items = ((Data (Number (pos 64)) (Global name_arr) (Of2 binary.Cons (Of unary.Vi (Number (pos 1))) (Of2 binary.Cons (Of unary.Vi (Number (pos 2))) (Of2 binary.Cons (Of unary.Vi (Number (pos 0))) (Of2 binary.Cons (Of unary.Vi (Number (pos 0))) Nil))))) ∷ []) }) }) (record { temps = (name_s ∷ name_t ∷ name_i ∷ name_x1 ∷ name_d0 ∷ name_p1 ∷ name_q1 ∷ []); body = (c.Then (c.Set 0 (c.Const 1)) (c.Then (c.Set 1 (c.Const 2)) (c.Then (c.Set 4 (c.Binary two.Mul kind.Signed (c.Const 3) (c.Const 1))) (c.Then (c.Set 0 (c.Temp 1)) (c.Then (c.Return None) c.End))))) }) (s.Then 1 (s.Set ([]) ([])) s.NoBlock (s.Then 2 (s.Set ([]) ([])) s.NoBlock (s.Then 3 (s.Set ([]) ([])) s.NoBlock (s.Then 4 (s.Set ([]) ([])) s.NoBlock (s.Then 5 (s.Pose (record { opened = []; facts = ([]); locals = ((name_s, (Of unary.Vi (Number (pos 2)))) ∷ (name_t, (Of unary.Vi (Number (pos 2)))) ∷ (name_d0, (Of unary.Vi (Number (pos 2147483647)))) ∷ []); items = ((Data (Number (pos 64)) (Global name_arr) (Of2 binary.Cons (Of unary.Vi (Number (pos 1))) (Of2 binary.Cons (Of unary.Vi (Number (pos 2))) (Of2 binary.Cons (Of unary.Vi (Number (pos 0))) (Of2 binary.Cons (Of unary.Vi (Number (pos 0))) Nil))))) ∷ []) }) ([]) ([])) (s.WithBlock (s.Then 6 (s.Meet ([]) ([])) s.NoBlock s.End) s.NoBlock) (s.Then 7 (s.Return ([]) ([]) ([])) s.NoBlock s.End)))))) ≡ (RefusedAt 6 37 4)
unfolding computing
random_164 = refl

random_165 : body_verdict (record { predicates = ([]); specs = ((record { is_void = false; name = name_inc; params = (name_n ∷ []); vars = ((name_a, sort.Int) ∷ []); pre = (record { opened = []; facts = ((Rel relation.Le (Number (pos 0)) (Var 0 sort.Int)) ∷ (Rel relation.Le (Var 0 sort.Int) (Number (pos 100))) ∷ []); locals = ((name_n, (Of unary.Vi (Var 0 sort.Int))) ∷ []); items = ([]) }); post = (record { opened = []; facts = ((Rel relation.Eq (Var 1 sort.Val) (Of unary.Vi (Of2 binary.Add (Var 0 sort.Int) (Number (pos 1))))) ∷ []); locals = []; items = ([]) }) }) ∷ (record { is_void = false; name = name_f; params = (name_n0 ∷ []); vars = ((name_a0, sort.Int) ∷ []); pre = (record { opened = []; facts = ((Rel relation.Le (Number (pos 1)) (Var 0 sort.Int)) ∷ (Rel relation.Le (Var 0 sort.Int) (Number (pos 100))) ∷ []); locals = ((name_n0, (Of unary.Vi (Var 0 sort.Int))) ∷ []); items = ([]) }); post = (record { opened = []; facts = ((Rel relation.Eq (Var 1 sort.Val) (Of unary.Vi (Number (pos 0)))) ∷ []); locals = []; items = ([]) }) }) ∷ (record { is_void = false; name = name_main; params = ([]); vars = []; pre = (record { opened = []; facts = ([]); locals = []; items = ([]) }); post = (record { opened = []; facts = ((Rel relation.Eq (Var 0 sort.Val) (Of unary.Vi (Number (pos 0)))) ∷ []); locals = []; items = ([]) }) }) ∷ []) }) (record { is_void = false; name = name_f; params = (name_n0 ∷ []); vars = ((name_a0, sort.Int) ∷ []); pre = (record { opened = []; facts = ((Rel relation.Le (Number (pos 1)) (Var 0 sort.Int)) ∷ (Rel relation.Le (Var 0 sort.Int) (Number (pos 100))) ∷ []); locals = ((name_n0, (Of unary.Vi (Var 0 sort.Int))) ∷ []); items = ([]) }); post = (record { opened = []; facts = ((Rel relation.Eq (Var 1 sort.Val) (Of unary.Vi (Number (pos 0)))) ∷ []); locals = []; items = ([]) }) }) (record { temps = (name_n0 ∷ name_s ∷ name_t ∷ name_i ∷ name_x1 ∷ name_d0 ∷ name_p1 ∷ name_q1 ∷ []); body = (c.Then (c.Set 1 (c.Const 3)) (c.Then (c.Set 2 (c.Const 2)) (c.Then (c.Call (Some 2) name_inc ((c.Temp 2) ∷ [])) (c.Then (c.Set 1 (c.Temp 2)) (c.Then (c.Set 1 (c.Temp 2)) (c.Then (c.Return (Some (c.Const 0))) c.End)))))) }) (s.Then 1 (s.Set ([]) ([])) s.NoBlock (s.Then 2 (s.Set ([]) ([])) s.NoBlock (s.Then 3 (s.Call ((Number (pos 1)) ∷ []) ([]) ([]) (name_k1 ∷ [])) s.NoBlock (s.Then 4 (s.Set ([]) ([])) s.NoBlock (s.Then 5 (s.Set ([]) ([])) s.NoBlock (s.Then 6 (s.Return ([]) ([]) ([])) s.NoBlock s.End)))))) ≡ (RefusedAt 3 13 4)
unfolding computing
random_165 = refl

random_166 : body_verdict (record { predicates = ([]); specs = ((record { is_void = false; name = name_inc; params = (name_n ∷ []); vars = ((name_a, sort.Int) ∷ []); pre = (record { opened = []; facts = ((Rel relation.Le (Number (pos 0)) (Var 0 sort.Int)) ∷ (Rel relation.Le (Var 0 sort.Int) (Number (pos 100))) ∷ []); locals = ((name_n, (Of unary.Vi (Var 0 sort.Int))) ∷ []); items = ([]) }); post = (record { opened = []; facts = ((Rel relation.Eq (Var 1 sort.Val) (Of unary.Vi (Of2 binary.Add (Var 0 sort.Int) (Number (pos 1))))) ∷ []); locals = []; items = ([]) }) }) ∷ (record { is_void = false; name = name_f; params = (name_n0 ∷ []); vars = ((name_a0, sort.Int) ∷ []); pre = (record { opened = []; facts = ((Rel relation.Le (Number (pos 1)) (Var 0 sort.Int)) ∷ (Rel relation.Le (Var 0 sort.Int) (Number (pos 100))) ∷ []); locals = ((name_n0, (Of unary.Vi (Var 0 sort.Int))) ∷ []); items = ([]) }); post = (record { opened = []; facts = ((Rel relation.Eq (Var 1 sort.Val) (Of unary.Vi (Number (pos 0)))) ∷ []); locals = []; items = ([]) }) }) ∷ (record { is_void = false; name = name_main; params = ([]); vars = []; pre = (record { opened = []; facts = ([]); locals = []; items = ([]) }); post = (record { opened = []; facts = ((Rel relation.Eq (Var 0 sort.Val) (Of unary.Vi (Number (pos 0)))) ∷ []); locals = []; items = ([]) }) }) ∷ []) }) (record { is_void = false; name = name_f; params = (name_n0 ∷ []); vars = ((name_a0, sort.Int) ∷ []); pre = (record { opened = []; facts = ((Rel relation.Le (Number (pos 1)) (Var 0 sort.Int)) ∷ (Rel relation.Le (Var 0 sort.Int) (Number (pos 100))) ∷ []); locals = ((name_n0, (Of unary.Vi (Var 0 sort.Int))) ∷ []); items = ([]) }); post = (record { opened = []; facts = ((Rel relation.Eq (Var 1 sort.Val) (Of unary.Vi (Number (pos 0)))) ∷ []); locals = []; items = ([]) }) }) (record { temps = (name_n0 ∷ name_s ∷ name_t ∷ name_i ∷ name_x1 ∷ name_d0 ∷ name_p1 ∷ name_q1 ∷ []); body = (c.Then (c.Set 1 (c.Const 3)) (c.Then (c.Set 2 (c.Const 2)) (c.Then (c.Call (Some 2) name_inc ((c.Temp 2) ∷ [])) (c.Then (c.Set 1 (c.Temp 2)) (c.Then (c.Set 1 (c.Temp 2)) (c.Then (c.Return (Some (c.Const 0))) c.End)))))) }) (s.Then 1 (s.Set ([]) ([])) s.NoBlock (s.Then 2 (s.Set ([]) ([])) s.NoBlock (s.Then 3 (s.Call ((Number (pos 0)) ∷ []) ([]) ([]) (name_k1 ∷ [])) s.NoBlock (s.Then 4 (s.Set ([]) ([])) s.NoBlock (s.Then 5 (s.Set ([]) ([])) s.NoBlock (s.Then 6 (s.Return ([]) ([]) ([])) s.NoBlock s.End)))))) ≡ (RefusedAt 3 13 4)
unfolding computing
random_166 = refl

random_167 : body_verdict (record { predicates = ([]); specs = ((record { is_void = false; name = name_inc; params = (name_n ∷ []); vars = ((name_a, sort.Int) ∷ []); pre = (record { opened = []; facts = ((Rel relation.Le (Number (pos 0)) (Var 0 sort.Int)) ∷ (Rel relation.Le (Var 0 sort.Int) (Number (pos 100))) ∷ []); locals = ((name_n, (Of unary.Vi (Var 0 sort.Int))) ∷ []); items = ([]) }); post = (record { opened = []; facts = ((Rel relation.Eq (Var 1 sort.Val) (Of unary.Vi (Of2 binary.Add (Var 0 sort.Int) (Number (pos 1))))) ∷ []); locals = []; items = ([]) }) }) ∷ (record { is_void = false; name = name_f; params = (name_n0 ∷ []); vars = ((name_a0, sort.Int) ∷ []); pre = (record { opened = []; facts = ((Rel relation.Le (Number (pos 1)) (Var 0 sort.Int)) ∷ (Rel relation.Le (Var 0 sort.Int) (Number (pos 100))) ∷ []); locals = ((name_n0, (Of unary.Vi (Var 0 sort.Int))) ∷ []); items = ([]) }); post = (record { opened = []; facts = ((Rel relation.Eq (Var 1 sort.Val) (Of unary.Vi (Number (pos 0)))) ∷ []); locals = []; items = ([]) }) }) ∷ (record { is_void = false; name = name_main; params = ([]); vars = []; pre = (record { opened = []; facts = ([]); locals = []; items = ([]) }); post = (record { opened = []; facts = ((Rel relation.Eq (Var 0 sort.Val) (Of unary.Vi (Number (pos 0)))) ∷ []); locals = []; items = ([]) }) }) ∷ []) }) (record { is_void = false; name = name_f; params = (name_n0 ∷ []); vars = ((name_a0, sort.Int) ∷ []); pre = (record { opened = []; facts = ((Rel relation.Le (Number (pos 1)) (Var 0 sort.Int)) ∷ (Rel relation.Le (Var 0 sort.Int) (Number (pos 100))) ∷ []); locals = ((name_n0, (Of unary.Vi (Var 0 sort.Int))) ∷ []); items = ([]) }); post = (record { opened = []; facts = ((Rel relation.Eq (Var 1 sort.Val) (Of unary.Vi (Number (pos 0)))) ∷ []); locals = []; items = ([]) }) }) (record { temps = (name_n0 ∷ name_s ∷ name_t ∷ name_i ∷ name_x1 ∷ name_d0 ∷ name_p1 ∷ name_q1 ∷ []); body = (c.Then (c.Set 1 (c.Const 3)) (c.Then (c.Set 2 (c.Const 2)) (c.Then (c.Call (Some 2) name_inc ((c.Temp 2) ∷ [])) (c.Then (c.Set 1 (c.Temp 2)) (c.Then (c.Set 1 (c.Temp 2)) (c.Then (c.Return (Some (c.Const 0))) c.End)))))) }) (s.Then 1 (s.Set ([]) ([])) s.NoBlock (s.Then 2 (s.Set ([]) ([])) s.NoBlock (s.Then 3 (s.Call ((Number (pos 1)) ∷ []) ([]) ([]) (name_k1 ∷ [])) s.NoBlock (s.Then 4 (s.Set ([]) ([])) s.NoBlock (s.Then 5 (s.Set ([]) ([])) s.NoBlock (s.Then 6 (s.Cut 0 Nil Nil) s.NoBlock (s.Then 7 (s.Return ([]) ([]) ([])) s.NoBlock s.End))))))) ≡ (RefusedAt 3 13 4)
unfolding computing
random_167 = refl

random_168 : body_verdict (record { predicates = ([]); specs = ((record { is_void = false; name = name_inc; params = (name_n ∷ []); vars = ((name_a, sort.Int) ∷ []); pre = (record { opened = []; facts = ((Rel relation.Le (Number (pos 0)) (Var 0 sort.Int)) ∷ (Rel relation.Le (Var 0 sort.Int) (Number (pos 100))) ∷ []); locals = ((name_n, (Of unary.Vi (Var 0 sort.Int))) ∷ []); items = ([]) }); post = (record { opened = []; facts = ((Rel relation.Eq (Var 1 sort.Val) (Of unary.Vi (Of2 binary.Add (Var 0 sort.Int) (Number (pos 1))))) ∷ []); locals = []; items = ([]) }) }) ∷ (record { is_void = false; name = name_f; params = (name_n0 ∷ []); vars = ((name_a0, sort.Int) ∷ []); pre = (record { opened = []; facts = ((Rel relation.Le (Number (pos 1)) (Var 0 sort.Int)) ∷ (Rel relation.Le (Var 0 sort.Int) (Number (pos 100))) ∷ []); locals = ((name_n0, (Of unary.Vi (Var 0 sort.Int))) ∷ []); items = ([]) }); post = (record { opened = []; facts = ((Rel relation.Eq (Var 1 sort.Val) (Of unary.Vi (Number (pos 0)))) ∷ []); locals = []; items = ([]) }) }) ∷ (record { is_void = false; name = name_main; params = ([]); vars = []; pre = (record { opened = []; facts = ([]); locals = []; items = ([]) }); post = (record { opened = []; facts = ((Rel relation.Eq (Var 0 sort.Val) (Of unary.Vi (Number (pos 0)))) ∷ []); locals = []; items = ([]) }) }) ∷ []) }) (record { is_void = false; name = name_f; params = (name_n0 ∷ []); vars = ((name_a0, sort.Int) ∷ []); pre = (record { opened = []; facts = ((Rel relation.Le (Number (pos 1)) (Var 0 sort.Int)) ∷ (Rel relation.Le (Var 0 sort.Int) (Number (pos 100))) ∷ []); locals = ((name_n0, (Of unary.Vi (Var 0 sort.Int))) ∷ []); items = ([]) }); post = (record { opened = []; facts = ((Rel relation.Eq (Var 1 sort.Val) (Of unary.Vi (Number (pos 0)))) ∷ []); locals = []; items = ([]) }) }) (record { temps = (name_n0 ∷ name_s ∷ name_t ∷ name_i ∷ name_x1 ∷ name_d0 ∷ name_p1 ∷ name_q1 ∷ []); body = (c.Then (c.Set 1 (c.Const 3)) (c.Then (c.Set 2 (c.Const 2)) (c.Then (c.Call (Some 2) name_inc ((c.Temp 2) ∷ [])) (c.Then (c.Set 1 (c.Temp 2)) (c.Then (c.Set 1 (c.Temp 2)) (c.Then (c.Return (Some (c.Const 0))) c.End)))))) }) (s.Then 1 (s.Set ([]) ([])) s.NoBlock (s.Then 2 (s.Set ([]) ([])) s.NoBlock (s.Then 3 (s.Call ((Number (pos 64)) ∷ []) ([]) ([]) (name_k1 ∷ [])) s.NoBlock (s.Then 4 (s.Set ([]) ([])) s.NoBlock (s.Then 5 (s.Set ([]) ([])) s.NoBlock (s.Then 6 (s.Return ([]) ([]) ([])) s.NoBlock s.End)))))) ≡ (RefusedAt 3 13 4)
unfolding computing
random_168 = refl

random_169 : body_verdict (record { predicates = ([]); specs = ((record { is_void = false; name = name_inc; params = (name_n ∷ []); vars = ((name_a, sort.Int) ∷ []); pre = (record { opened = []; facts = ((Rel relation.Le (Number (pos 0)) (Var 0 sort.Int)) ∷ (Rel relation.Le (Var 0 sort.Int) (Number (pos 100))) ∷ []); locals = ((name_n, (Of unary.Vi (Var 0 sort.Int))) ∷ []); items = ([]) }); post = (record { opened = []; facts = ((Rel relation.Eq (Var 1 sort.Val) (Of unary.Vi (Of2 binary.Add (Var 0 sort.Int) (Number (pos 1))))) ∷ []); locals = []; items = ([]) }) }) ∷ (record { is_void = false; name = name_f; params = (name_n0 ∷ []); vars = ((name_a0, sort.Int) ∷ []); pre = (record { opened = []; facts = ((Rel relation.Le (Number (pos 1)) (Var 0 sort.Int)) ∷ (Rel relation.Le (Var 0 sort.Int) (Number (pos 100))) ∷ []); locals = ((name_n0, (Of unary.Vi (Var 0 sort.Int))) ∷ []); items = ([]) }); post = (record { opened = []; facts = ((Rel relation.Eq (Var 1 sort.Val) (Of unary.Vi (Number (pos 0)))) ∷ []); locals = []; items = ([]) }) }) ∷ (record { is_void = false; name = name_main; params = ([]); vars = []; pre = (record { opened = []; facts = ([]); locals = []; items = ([]) }); post = (record { opened = []; facts = ((Rel relation.Eq (Var 0 sort.Val) (Of unary.Vi (Number (pos 0)))) ∷ []); locals = []; items = ([]) }) }) ∷ []) }) (record { is_void = false; name = name_f; params = (name_n0 ∷ []); vars = ((name_a0, sort.Int) ∷ []); pre = (record { opened = []; facts = ((Rel relation.Le (Number (pos 1)) (Var 0 sort.Int)) ∷ (Rel relation.Le (Var 0 sort.Int) (Number (pos 100))) ∷ []); locals = ((name_n0, (Of unary.Vi (Var 0 sort.Int))) ∷ []); items = ([]) }); post = (record { opened = []; facts = ((Rel relation.Eq (Var 1 sort.Val) (Of unary.Vi (Number (pos 0)))) ∷ []); locals = []; items = ([]) }) }) (record { temps = (name_n0 ∷ name_s ∷ name_t ∷ name_i ∷ name_x1 ∷ name_d0 ∷ name_p1 ∷ name_q1 ∷ []); body = (c.Then (c.Set 1 (c.Const 3)) (c.Then (c.Set 2 (c.Const 2)) (c.Then (c.Call (Some 2) name_inc ((c.Temp 2) ∷ [])) (c.Then (c.Set 1 (c.Temp 2)) (c.Then (c.Set 1 (c.Temp 2)) (c.Then (c.Return (Some (c.Const 0))) c.End)))))) }) (s.Then 1 (s.Set ([]) ([])) s.NoBlock (s.Then 2 (s.Set ([]) ([])) s.NoBlock (s.Then 3 (s.Call ((Number (pos 2)) ∷ []) ([]) ([]) (name_k1 ∷ [])) s.NoBlock (s.Then 4 (s.Set ([]) ([])) s.NoBlock (s.Then 5 (s.Set ([]) ([])) s.NoBlock (s.Then 6 (s.Fall ([]) ([])) s.NoBlock s.End)))))) ≡ (RefusedAt 6 10 1)
unfolding computing
random_169 = refl

random_170 : body_verdict (record { predicates = ([]); specs = ((record { is_void = false; name = name_inc; params = (name_n ∷ []); vars = ((name_a, sort.Int) ∷ []); pre = (record { opened = []; facts = ((Rel relation.Le (Number (pos 0)) (Var 0 sort.Int)) ∷ (Rel relation.Le (Var 0 sort.Int) (Number (pos 100))) ∷ []); locals = ((name_n, (Of unary.Vi (Var 0 sort.Int))) ∷ []); items = ([]) }); post = (record { opened = []; facts = ((Rel relation.Eq (Var 1 sort.Val) (Of unary.Vi (Of2 binary.Add (Var 0 sort.Int) (Number (pos 1))))) ∷ []); locals = []; items = ([]) }) }) ∷ (record { is_void = false; name = name_f; params = (name_n0 ∷ []); vars = ((name_a0, sort.Int) ∷ []); pre = (record { opened = []; facts = ((Rel relation.Le (Number (pos 1)) (Var 0 sort.Int)) ∷ (Rel relation.Le (Var 0 sort.Int) (Number (pos 100))) ∷ []); locals = ((name_n0, (Of unary.Vi (Var 0 sort.Int))) ∷ []); items = ([]) }); post = (record { opened = []; facts = ((Rel relation.Eq (Var 1 sort.Val) (Of unary.Vi (Number (pos 0)))) ∷ []); locals = []; items = ([]) }) }) ∷ (record { is_void = false; name = name_main; params = ([]); vars = []; pre = (record { opened = []; facts = ([]); locals = []; items = ([]) }); post = (record { opened = []; facts = ((Rel relation.Eq (Var 0 sort.Val) (Of unary.Vi (Number (pos 0)))) ∷ []); locals = []; items = ([]) }) }) ∷ []) }) (record { is_void = false; name = name_f; params = (name_n0 ∷ []); vars = ((name_a0, sort.Int) ∷ []); pre = (record { opened = []; facts = ((Rel relation.Le (Number (pos 1)) (Var 0 sort.Int)) ∷ (Rel relation.Le (Var 0 sort.Int) (Number (pos 100))) ∷ []); locals = ((name_n0, (Of unary.Vi (Var 0 sort.Int))) ∷ []); items = ([]) }); post = (record { opened = []; facts = ((Rel relation.Eq (Var 1 sort.Val) (Of unary.Vi (Number (pos 0)))) ∷ []); locals = []; items = ([]) }) }) (record { temps = (name_n0 ∷ name_s ∷ name_t ∷ name_i ∷ name_x1 ∷ name_d0 ∷ name_p1 ∷ name_q1 ∷ []); body = (c.Then (c.Set 1 (c.Const 3)) (c.Then (c.Set 2 (c.Const 2)) (c.Then (c.Call (Some 2) name_inc ((c.Temp 2) ∷ [])) (c.Then (c.Set 1 (c.Temp 2)) (c.Then (c.Set 1 (c.Temp 2)) (c.Then (c.Return (Some (c.Const 0))) c.End)))))) }) (s.Then 1 (s.Set ([]) ([])) s.NoBlock (s.Then 2 (s.Set ([]) ([])) s.NoBlock (s.Then 3 (s.Call ((Number (pos 2)) ∷ []) ([]) ([]) (name_k1 ∷ [])) s.NoBlock (s.Then 4 (s.Absurd ([])) s.NoBlock (s.Then 5 (s.Set ([]) ([])) s.NoBlock (s.Then 6 (s.Return ([]) ([]) ([])) s.NoBlock s.End)))))) ≡ (RefusedAt 4 24 3)
unfolding computing
random_170 = refl

random_171 : body_verdict (record { predicates = ([]); specs = ((record { is_void = false; name = name_main; params = ([]); vars = []; pre = (record { opened = []; facts = ([]); locals = []; items = ([]) }); post = (record { opened = []; facts = ([]); locals = []; items = ([]) }) }) ∷ []) }) (record { is_void = false; name = name_main; params = ([]); vars = []; pre = (record { opened = []; facts = ([]); locals = []; items = ([]) }); post = (record { opened = []; facts = ([]); locals = []; items = ([]) }) }) (record { temps = (name_s ∷ name_t ∷ name_i ∷ name_x1 ∷ name_d0 ∷ name_p1 ∷ name_q1 ∷ []); body = (c.Then (c.Set 0 (c.Const 2)) (c.Then (c.Set 1 (c.Const 1)) (c.Then (c.Set 0 (c.Temp 1)) (c.Then (c.If (c.Nonzero kind.Signed (c.Binary two.Gt kind.Signed (c.Const 3) (c.Const 5))) (c.Then (c.Set 1 (c.Const 3)) c.End) c.End) (c.Then (c.Set 3 (c.Unary one.Invert kind.Unsigned (c.Const 0))) (c.Then (c.Set 0 (c.Binary two.Add kind.Signed (c.Const 3) (c.Const 3))) (c.Then (c.Return (Some (c.Const 7))) c.End))))))) }) (s.Then 1 (s.Set ([]) ([])) s.NoBlock (s.Then 2 (s.Set ([]) ([])) s.NoBlock (s.Then 3 (s.Set ([]) ([])) s.NoBlock (s.Then 4 (s.Release 0 1 ([])) s.NoBlock (s.Then 5 (s.If ([]) ([]) ([]) ([])) (s.WithBlock (s.Then 6 (s.Naming name_k1 (Of unary.Vi (Number (pos 1)))) s.NoBlock (s.Then 7 (s.Absurd ([])) s.NoBlock s.End)) (s.WithBlock (s.Then 8 (s.Set ([]) ([])) s.NoBlock (s.Then 9 (s.Set ([]) ([])) s.NoBlock (s.Then 10 (s.Return ([]) ([]) ([])) s.NoBlock s.End))) s.NoBlock)) s.End))))) ≡ (RefusedAt 4 18 1)
unfolding computing
random_171 = refl

random_172 : body_verdict (record { predicates = ([]); specs = ((record { is_void = true; name = name_f; params = (name_r0 ∷ name_s1 ∷ []); vars = ((name_e0, sort.Val) ∷ (name_l0, sort.List) ∷ (name_w1, sort.Val) ∷ (name_h1, sort.Int) ∷ (name_q1, sort.Val) ∷ []); pre = (record { opened = []; facts = ((Rel relation.Eq (Of unary.Len (Var 1 sort.List)) (Number (pos 4))) ∷ (Rel relation.Le (Number (pos 0)) (Var 3 sort.Int)) ∷ (Rel relation.Le (Var 3 sort.Int) (Number (pos 20))) ∷ []); locals = ((name_r0, (Var 0 sort.Val)) ∷ (name_s1, (Var 2 sort.Val)) ∷ []); items = ((Data (Number (pos 64)) (Var 0 sort.Val) (Var 1 sort.List)) ∷ (Data (Number (pos 64)) (Var 2 sort.Val) (Of2 binary.Cons (Of unary.Vi (Var 3 sort.Int)) (Of2 binary.Cons (Var 4 sort.Val) (Of2 binary.Cons (Of unary.Vi (Number (pos 3))) Nil)))) ∷ []) }); post = (record { opened = []; facts = ([]); locals = []; items = ((Data (Number (pos 64)) (Var 0 sort.Val) (Var 1 sort.List)) ∷ (Data (Number (pos 64)) (Var 2 sort.Val) (Of2 binary.Cons (Of unary.Vi (Var 3 sort.Int)) (Of2 binary.Cons (Var 4 sort.Val) (Of2 binary.Cons (Of unary.Vi (Number (pos 3))) Nil)))) ∷ []) }) }) ∷ (record { is_void = false; name = name_main; params = ([]); vars = []; pre = (record { opened = []; facts = ([]); locals = []; items = ([]) }); post = (record { opened = []; facts = ((Rel relation.Eq (Var 0 sort.Val) (Of unary.Vi (Number (pos 0)))) ∷ []); locals = []; items = ([]) }) }) ∷ []) }) (record { is_void = false; name = name_main; params = ([]); vars = []; pre = (record { opened = []; facts = ([]); locals = []; items = ([]) }); post = (record { opened = []; facts = ((Rel relation.Eq (Var 0 sort.Val) (Of unary.Vi (Number (pos 0)))) ∷ []); locals = []; items = ([]) }) }) (record { temps = ([]); body = (c.Then (c.Return (Some (c.Const 0))) c.End) }) (s.Then 1 (s.Apart 0 1 ([])) s.NoBlock (s.Then 2 (s.Return ([]) ([]) ([])) s.NoBlock s.End)) ≡ (RefusedAt 1 35 1)
unfolding computing
random_172 = refl

random_173 : body_verdict (record { predicates = ([]); specs = ((record { is_void = true; name = name_f; params = (name_r0 ∷ name_s1 ∷ []); vars = ((name_e0, sort.Val) ∷ (name_l0, sort.List) ∷ (name_w1, sort.Val) ∷ (name_h1, sort.Int) ∷ (name_q1, sort.Val) ∷ []); pre = (record { opened = []; facts = ((Rel relation.Eq (Of unary.Len (Var 1 sort.List)) (Number (pos 4))) ∷ (Rel relation.Le (Number (pos 0)) (Var 3 sort.Int)) ∷ (Rel relation.Le (Var 3 sort.Int) (Number (pos 20))) ∷ []); locals = ((name_r0, (Var 0 sort.Val)) ∷ (name_s1, (Var 2 sort.Val)) ∷ []); items = ((Data (Number (pos 64)) (Var 0 sort.Val) (Var 1 sort.List)) ∷ (Data (Number (pos 64)) (Var 2 sort.Val) (Of2 binary.Cons (Of unary.Vi (Var 3 sort.Int)) (Of2 binary.Cons (Var 4 sort.Val) (Of2 binary.Cons (Of unary.Vi (Number (pos 3))) Nil)))) ∷ []) }); post = (record { opened = []; facts = ([]); locals = []; items = ((Data (Number (pos 64)) (Var 0 sort.Val) (Var 1 sort.List)) ∷ (Data (Number (pos 64)) (Var 2 sort.Val) (Of2 binary.Cons (Of unary.Vi (Var 3 sort.Int)) (Of2 binary.Cons (Var 4 sort.Val) (Of2 binary.Cons (Of unary.Vi (Number (pos 3))) Nil)))) ∷ []) }) }) ∷ (record { is_void = false; name = name_main; params = ([]); vars = []; pre = (record { opened = []; facts = ([]); locals = []; items = ([]) }); post = (record { opened = []; facts = ((Rel relation.Eq (Var 0 sort.Val) (Of unary.Vi (Number (pos 0)))) ∷ []); locals = []; items = ([]) }) }) ∷ []) }) (record { is_void = true; name = name_f; params = (name_r0 ∷ name_s1 ∷ []); vars = ((name_e0, sort.Val) ∷ (name_l0, sort.List) ∷ (name_w1, sort.Val) ∷ (name_h1, sort.Int) ∷ (name_q1, sort.Val) ∷ []); pre = (record { opened = []; facts = ((Rel relation.Eq (Of unary.Len (Var 1 sort.List)) (Number (pos 4))) ∷ (Rel relation.Le (Number (pos 0)) (Var 3 sort.Int)) ∷ (Rel relation.Le (Var 3 sort.Int) (Number (pos 20))) ∷ []); locals = ((name_r0, (Var 0 sort.Val)) ∷ (name_s1, (Var 2 sort.Val)) ∷ []); items = ((Data (Number (pos 64)) (Var 0 sort.Val) (Var 1 sort.List)) ∷ (Data (Number (pos 64)) (Var 2 sort.Val) (Of2 binary.Cons (Of unary.Vi (Var 3 sort.Int)) (Of2 binary.Cons (Var 4 sort.Val) (Of2 binary.Cons (Of unary.Vi (Number (pos 3))) Nil)))) ∷ []) }); post = (record { opened = []; facts = ([]); locals = []; items = ((Data (Number (pos 64)) (Var 0 sort.Val) (Var 1 sort.List)) ∷ (Data (Number (pos 64)) (Var 2 sort.Val) (Of2 binary.Cons (Of unary.Vi (Var 3 sort.Int)) (Of2 binary.Cons (Var 4 sort.Val) (Of2 binary.Cons (Of unary.Vi (Number (pos 3))) Nil)))) ∷ []) }) }) (record { temps = (name_r0 ∷ name_s1 ∷ name_s ∷ name_t ∷ name_i ∷ name_x1 ∷ name_d0 ∷ name_p1 ∷ name_q1 ∷ []); body = (c.Then (c.Set 3 (c.Const 0)) (c.Then (c.Load 3 (root.Temp 0) (c.Index kind.Signed (c.Const 3) c.Here)) (c.Then (c.Set 2 (c.Binary two.Add kind.Signed (c.Const 3) (c.Const 1))) (c.Then (c.Set 2 (c.Binary two.Add kind.Signed (c.Const 2) (c.Const 2))) (c.Then (c.Set 2 (c.Binary two.Div kind.Signed (c.Const 1) (c.Const 2))) (c.Then (c.Return None) c.End)))))) }) (s.Then 1 (s.Set ([]) ([])) s.NoBlock (s.Then 2 (s.Load 0 ([]) ((record { lines = ((line.Comb (((pos 2), 1) ∷ ((pos 1), 4) ∷ [])) ∷ []) }) ∷ [])) s.NoBlock (s.Then 3 (s.Set ([]) ([])) s.NoBlock (s.Then 4 (s.Set ([]) ([])) s.NoBlock (s.Then 5 (s.Set ([]) ([])) s.NoBlock (s.Then 6 (s.Return ([]) ([]) ([])) s.NoBlock s.End)))))) ≡ (RefusedAt 2 3 3)
unfolding computing
random_173 = refl

random_174 : body_verdict (record { predicates = ([]); specs = ((record { is_void = true; name = name_f; params = (name_r0 ∷ name_s1 ∷ []); vars = ((name_e0, sort.Val) ∷ (name_l0, sort.List) ∷ (name_w1, sort.Val) ∷ (name_h1, sort.Int) ∷ (name_q1, sort.Val) ∷ []); pre = (record { opened = []; facts = ((Rel relation.Eq (Of unary.Len (Var 1 sort.List)) (Number (pos 3))) ∷ (Rel relation.Le (Number (pos 0)) (Var 3 sort.Int)) ∷ (Rel relation.Le (Var 3 sort.Int) (Number (pos 20))) ∷ []); locals = ((name_r0, (Var 0 sort.Val)) ∷ (name_s1, (Var 2 sort.Val)) ∷ []); items = ((Data (Number (pos 64)) (Var 0 sort.Val) (Var 1 sort.List)) ∷ (Data (Number (pos 64)) (Var 2 sort.Val) (Of2 binary.Cons (Of unary.Vi (Var 3 sort.Int)) (Of2 binary.Cons (Var 4 sort.Val) (Of2 binary.Cons (Of unary.Vi (Number (pos 3))) Nil)))) ∷ []) }); post = (record { opened = []; facts = ([]); locals = []; items = ((Data (Number (pos 64)) (Var 0 sort.Val) (Var 1 sort.List)) ∷ (Data (Number (pos 64)) (Var 2 sort.Val) (Of2 binary.Cons (Of unary.Vi (Var 3 sort.Int)) (Of2 binary.Cons (Var 4 sort.Val) (Of2 binary.Cons (Of unary.Vi (Number (pos 3))) Nil)))) ∷ []) }) }) ∷ (record { is_void = false; name = name_main; params = ([]); vars = []; pre = (record { opened = []; facts = ([]); locals = []; items = ([]) }); post = (record { opened = []; facts = ((Rel relation.Eq (Var 0 sort.Val) (Of unary.Vi (Number (pos 0)))) ∷ []); locals = []; items = ([]) }) }) ∷ []) }) (record { is_void = true; name = name_f; params = (name_r0 ∷ name_s1 ∷ []); vars = ((name_e0, sort.Val) ∷ (name_l0, sort.List) ∷ (name_w1, sort.Val) ∷ (name_h1, sort.Int) ∷ (name_q1, sort.Val) ∷ []); pre = (record { opened = []; facts = ((Rel relation.Eq (Of unary.Len (Var 1 sort.List)) (Number (pos 3))) ∷ (Rel relation.Le (Number (pos 0)) (Var 3 sort.Int)) ∷ (Rel relation.Le (Var 3 sort.Int) (Number (pos 20))) ∷ []); locals = ((name_r0, (Var 0 sort.Val)) ∷ (name_s1, (Var 2 sort.Val)) ∷ []); items = ((Data (Number (pos 64)) (Var 0 sort.Val) (Var 1 sort.List)) ∷ (Data (Number (pos 64)) (Var 2 sort.Val) (Of2 binary.Cons (Of unary.Vi (Var 3 sort.Int)) (Of2 binary.Cons (Var 4 sort.Val) (Of2 binary.Cons (Of unary.Vi (Number (pos 3))) Nil)))) ∷ []) }); post = (record { opened = []; facts = ([]); locals = []; items = ((Data (Number (pos 64)) (Var 0 sort.Val) (Var 1 sort.List)) ∷ (Data (Number (pos 64)) (Var 2 sort.Val) (Of2 binary.Cons (Of unary.Vi (Var 3 sort.Int)) (Of2 binary.Cons (Var 4 sort.Val) (Of2 binary.Cons (Of unary.Vi (Number (pos 3))) Nil)))) ∷ []) }) }) (record { temps = (name_r0 ∷ name_s1 ∷ name_s ∷ name_t ∷ name_i ∷ name_x1 ∷ name_d0 ∷ name_p1 ∷ name_q1 ∷ []); body = (c.Then (c.Set 3 (c.Const 0)) (c.Then (c.Load 3 (root.Temp 0) (c.Index kind.Signed (c.Const 3) c.Here)) (c.Then (c.Set 2 (c.Binary two.Add kind.Signed (c.Const 3) (c.Const 1))) (c.Then (c.Set 2 (c.Binary two.Add kind.Signed (c.Const 2) (c.Const 2))) (c.Then (c.Set 2 (c.Binary two.Div kind.Signed (c.Const 1) (c.Const 2))) (c.Then (c.Return None) c.End)))))) }) (s.Then 1 (s.Set ([]) ([])) s.NoBlock (s.Then 2 (s.Load 0 ([]) ((record { lines = ((line.Comb (((pos 1), 1) ∷ ((pos 1), 4) ∷ [])) ∷ []) }) ∷ [])) s.NoBlock (s.Then 3 (s.Set ([]) ([])) s.NoBlock (s.Then 4 (s.Set ([]) ([])) s.NoBlock (s.Then 5 (s.Set ([]) ([])) s.NoBlock (s.Then 6 (s.Return ([]) ([]) ([])) s.NoBlock s.End)))))) ≡ (RefusedAt 2 3 3)
unfolding computing
random_174 = refl

random_175 : body_verdict (record { predicates = ([]); specs = ((record { is_void = true; name = name_f; params = (name_r0 ∷ name_s1 ∷ []); vars = ((name_e0, sort.Val) ∷ (name_l0, sort.List) ∷ (name_w1, sort.Val) ∷ (name_h1, sort.Int) ∷ (name_q1, sort.Val) ∷ []); pre = (record { opened = []; facts = ((Rel relation.Eq (Of unary.Len (Var 1 sort.List)) (Number (pos 4))) ∷ (Rel relation.Le (Number (pos 0)) (Var 3 sort.Int)) ∷ (Rel relation.Le (Var 3 sort.Int) (Number (pos 20))) ∷ []); locals = ((name_r0, (Var 0 sort.Val)) ∷ (name_s1, (Var 2 sort.Val)) ∷ []); items = ((Data (Number (pos 64)) (Var 0 sort.Val) (Var 1 sort.List)) ∷ (Data (Number (pos 64)) (Var 2 sort.Val) (Of2 binary.Cons (Of unary.Vi (Var 3 sort.Int)) (Of2 binary.Cons (Var 4 sort.Val) (Of2 binary.Cons (Of unary.Vi (Number (pos 3))) Nil)))) ∷ []) }); post = (record { opened = []; facts = ([]); locals = []; items = ((Data (Number (pos 64)) (Var 0 sort.Val) (Var 1 sort.List)) ∷ (Data (Number (pos 64)) (Var 2 sort.Val) (Of2 binary.Cons (Of unary.Vi (Var 3 sort.Int)) (Of2 binary.Cons (Var 4 sort.Val) (Of2 binary.Cons (Of unary.Vi (Number (pos 3))) Nil)))) ∷ []) }) }) ∷ (record { is_void = false; name = name_main; params = ([]); vars = []; pre = (record { opened = []; facts = ([]); locals = []; items = ([]) }); post = (record { opened = []; facts = ((Rel relation.Eq (Var 0 sort.Val) (Of unary.Vi (Number (pos 0)))) ∷ []); locals = []; items = ([]) }) }) ∷ []) }) (record { is_void = true; name = name_f; params = (name_r0 ∷ name_s1 ∷ []); vars = ((name_e0, sort.Val) ∷ (name_l0, sort.List) ∷ (name_w1, sort.Val) ∷ (name_h1, sort.Int) ∷ (name_q1, sort.Val) ∷ []); pre = (record { opened = []; facts = ((Rel relation.Eq (Of unary.Len (Var 1 sort.List)) (Number (pos 4))) ∷ (Rel relation.Le (Number (pos 0)) (Var 3 sort.Int)) ∷ (Rel relation.Le (Var 3 sort.Int) (Number (pos 20))) ∷ []); locals = ((name_r0, (Var 0 sort.Val)) ∷ (name_s1, (Var 2 sort.Val)) ∷ []); items = ((Data (Number (pos 64)) (Var 0 sort.Val) (Var 1 sort.List)) ∷ (Data (Number (pos 64)) (Var 2 sort.Val) (Of2 binary.Cons (Of unary.Vi (Var 3 sort.Int)) (Of2 binary.Cons (Var 4 sort.Val) (Of2 binary.Cons (Of unary.Vi (Number (pos 3))) Nil)))) ∷ []) }); post = (record { opened = []; facts = ([]); locals = []; items = ((Data (Number (pos 64)) (Var 0 sort.Val) (Var 1 sort.List)) ∷ (Data (Number (pos 64)) (Var 2 sort.Val) (Of2 binary.Cons (Of unary.Vi (Var 3 sort.Int)) (Of2 binary.Cons (Var 4 sort.Val) (Of2 binary.Cons (Of unary.Vi (Number (pos 3))) Nil)))) ∷ []) }) }) (record { temps = (name_r0 ∷ name_s1 ∷ name_s ∷ name_t ∷ name_i ∷ name_x1 ∷ name_d0 ∷ name_p1 ∷ name_q1 ∷ []); body = (c.Then (c.Set 3 (c.Const 0)) (c.Then (c.Load 3 (root.Temp 0) (c.Index kind.Signed (c.Const 3) c.Here)) (c.Then (c.Set 2 (c.Binary two.Add kind.Signed (c.Const 3) (c.Const 1))) (c.Then (c.Set 2 (c.Binary two.Add kind.Signed (c.Const 2) (c.Const 2))) (c.Then (c.Set 2 (c.Binary two.Div kind.Signed (c.Const 1) (c.Const 2))) (c.Then (c.Return None) c.End)))))) }) (s.Then 1 (s.Set ([]) ([])) s.NoBlock (s.Then 2 (s.Load 0 ([]) ((record { lines = ((line.Comb (((pos 1), 1) ∷ ((pos 1), 4) ∷ [])) ∷ []) }) ∷ (record { lines = ((line.Comb (((pos 1), 1) ∷ ((pos 1), 4) ∷ [])) ∷ []) }) ∷ [])) s.NoBlock (s.Then 3 (s.Set ([]) ([])) s.NoBlock (s.Then 4 (s.Set ([]) ([])) s.NoBlock (s.Then 5 (s.Set ([]) ([])) s.NoBlock (s.Then 6 (s.Return ([]) ([]) ([])) s.NoBlock s.End)))))) ≡ (RefusedAt 2 3 3)
unfolding computing
random_175 = refl

random_176 : body_verdict (record { predicates = ([]); specs = ((record { is_void = true; name = name_f; params = (name_r0 ∷ name_s1 ∷ []); vars = ((name_e0, sort.Val) ∷ (name_l0, sort.List) ∷ (name_w1, sort.Val) ∷ (name_h1, sort.Int) ∷ (name_q1, sort.Val) ∷ []); pre = (record { opened = []; facts = ((Rel relation.Eq (Of unary.Len (Var 1 sort.List)) (Number (pos 4))) ∷ (Rel relation.Le (Number (pos 0)) (Var 3 sort.Int)) ∷ (Rel relation.Le (Var 3 sort.Int) (Number (pos 20))) ∷ []); locals = ((name_r0, (Var 0 sort.Val)) ∷ (name_s1, (Var 2 sort.Val)) ∷ []); items = ((Data (Number (pos 64)) (Var 0 sort.Val) (Var 1 sort.List)) ∷ (Data (Number (pos 64)) (Var 2 sort.Val) (Of2 binary.Cons (Of unary.Vi (Var 3 sort.Int)) (Of2 binary.Cons (Var 4 sort.Val) (Of2 binary.Cons (Of unary.Vi (Number (pos 3))) Nil)))) ∷ []) }); post = (record { opened = []; facts = ([]); locals = []; items = ((Data (Number (pos 64)) (Var 0 sort.Val) (Var 1 sort.List)) ∷ (Data (Number (pos 64)) (Var 2 sort.Val) (Of2 binary.Cons (Of unary.Vi (Var 3 sort.Int)) (Of2 binary.Cons (Var 4 sort.Val) (Of2 binary.Cons (Of unary.Vi (Number (pos 3))) Nil)))) ∷ []) }) }) ∷ (record { is_void = false; name = name_main; params = ([]); vars = []; pre = (record { opened = []; facts = ([]); locals = []; items = ([]) }); post = (record { opened = []; facts = ((Rel relation.Eq (Var 0 sort.Val) (Of unary.Vi (Number (pos 0)))) ∷ []); locals = []; items = ([]) }) }) ∷ []) }) (record { is_void = true; name = name_f; params = (name_r0 ∷ name_s1 ∷ []); vars = ((name_e0, sort.Val) ∷ (name_l0, sort.List) ∷ (name_w1, sort.Val) ∷ (name_h1, sort.Int) ∷ (name_q1, sort.Val) ∷ []); pre = (record { opened = []; facts = ((Rel relation.Eq (Of unary.Len (Var 1 sort.List)) (Number (pos 4))) ∷ (Rel relation.Le (Number (pos 0)) (Var 3 sort.Int)) ∷ (Rel relation.Le (Var 3 sort.Int) (Number (pos 20))) ∷ []); locals = ((name_r0, (Var 0 sort.Val)) ∷ (name_s1, (Var 2 sort.Val)) ∷ []); items = ((Data (Number (pos 64)) (Var 0 sort.Val) (Var 1 sort.List)) ∷ (Data (Number (pos 64)) (Var 2 sort.Val) (Of2 binary.Cons (Of unary.Vi (Var 3 sort.Int)) (Of2 binary.Cons (Var 4 sort.Val) (Of2 binary.Cons (Of unary.Vi (Number (pos 3))) Nil)))) ∷ []) }); post = (record { opened = []; facts = ([]); locals = []; items = ((Data (Number (pos 64)) (Var 0 sort.Val) (Var 1 sort.List)) ∷ (Data (Number (pos 64)) (Var 2 sort.Val) (Of2 binary.Cons (Of unary.Vi (Var 3 sort.Int)) (Of2 binary.Cons (Var 4 sort.Val) (Of2 binary.Cons (Of unary.Vi (Number (pos 3))) Nil)))) ∷ []) }) }) (record { temps = (name_r0 ∷ name_s1 ∷ name_s ∷ name_t ∷ name_i ∷ name_x1 ∷ name_d0 ∷ name_p1 ∷ name_q1 ∷ []); body = (c.Then (c.Set 3 (c.Const 0)) (c.Then (c.Load 3 (root.Temp 0) (c.Index kind.Signed (c.Const 3) c.Here)) (c.Then (c.Set 2 (c.Binary two.Add kind.Signed (c.Const 3) (c.Const 1))) (c.Then (c.Set 2 (c.Binary two.Add kind.Signed (c.Const 2) (c.Const 2))) (c.Then (c.Set 2 (c.Binary two.Div kind.Signed (c.Const 1) (c.Const 2))) (c.Then (c.Return None) c.End)))))) }) (s.Then 1 (s.Set ([]) ([])) s.NoBlock (s.Then 2 (s.Load 0 ([]) ((record { lines = ((line.Comb (((pos 1), 1) ∷ ((pos 1), 4) ∷ [])) ∷ []) }) ∷ [])) s.NoBlock (s.Then 3 (s.Set ([]) ([])) s.NoBlock (s.Then 4 (s.Set ([]) ([])) s.NoBlock (s.Then 5 (s.Subst name_k1) s.NoBlock (s.Then 6 (s.Set ([]) ([])) s.NoBlock (s.Then 7 (s.Return ([]) ([]) ([])) s.NoBlock s.End))))))) ≡ (RefusedAt 5 27 1)
unfolding computing
random_176 = refl

random_177 : body_verdict (record { predicates = ([]); specs = ((record { is_void = false; name = name_f; params = (name_u0 ∷ []); vars = ((name_b0, sort.Int) ∷ []); pre = (record { opened = []; facts = ((Rel relation.Le (Number (pos 0)) (Var 0 sort.Int)) ∷ (Rel relation.Le (Var 0 sort.Int) (Number (pos 4294967295))) ∷ []); locals = ((name_u0, (Of unary.Vi (Var 0 sort.Int))) ∷ []); items = ((Data (Number (pos 64)) (Global name_x) (Of2 binary.Cons (Of unary.Vi (Number (pos 3))) Nil)) ∷ []) }); post = (record { opened = []; facts = ((Rel relation.Eq (Var 1 sort.Val) (Of unary.Vi (Number (pos 2)))) ∷ []); locals = []; items = ((Data (Number (pos 64)) (Global name_x) (Of2 binary.Cons (Of unary.Vi (Number (pos 3))) Nil)) ∷ []) }) }) ∷ (record { is_void = false; name = name_main; params = ([]); vars = []; pre = (record { opened = []; facts = ([]); locals = []; items = ((Data (Number (pos 64)) (Global name_x) (Of2 binary.Cons (Of unary.Vi (Number (pos 3))) Nil)) ∷ []) }); post = (record { opened = []; facts = ((Rel relation.Eq (Var 0 sort.Val) (Of unary.Vi (Number (pos 0)))) ∷ []); locals = []; items = ((Data (Number (pos 64)) (Global name_x) (Of2 binary.Cons (Of unary.Vi (Number (pos 3))) Nil)) ∷ []) }) }) ∷ []) }) (record { is_void = false; name = name_f; params = (name_u0 ∷ []); vars = ((name_b0, sort.Int) ∷ []); pre = (record { opened = []; facts = ((Rel relation.Le (Number (pos 0)) (Var 0 sort.Int)) ∷ (Rel relation.Le (Var 0 sort.Int) (Number (pos 4294967295))) ∷ []); locals = ((name_u0, (Of unary.Vi (Var 0 sort.Int))) ∷ []); items = ((Data (Number (pos 64)) (Global name_x) (Of2 binary.Cons (Of unary.Vi (Number (pos 3))) Nil)) ∷ []) }); post = (record { opened = []; facts = ((Rel relation.Eq (Var 1 sort.Val) (Of unary.Vi (Number (pos 2)))) ∷ []); locals = []; items = ((Data (Number (pos 64)) (Global name_x) (Of2 binary.Cons (Of unary.Vi (Number (pos 3))) Nil)) ∷ []) }) }) (record { temps = (name_u0 ∷ name_s ∷ name_t ∷ name_i ∷ name_x1 ∷ name_d0 ∷ name_p1 ∷ name_q1 ∷ []); body = (c.Then (c.Set 1 (c.Const 2)) (c.Then (c.Set 2 (c.Const 1)) (c.Then (c.Set 2 (c.Binary two.Mul kind.Signed (c.Const 3) (c.Const 2))) (c.Then (c.Set 4 (c.Temp 0)) (c.Then (c.Return (Some (c.Temp 1))) c.End))))) }) (s.Then 1 (s.MakeLock 0 (record { name = name_zz; args = ([]) }) ([]) ([])) s.NoBlock (s.Then 2 (s.Set ([]) ([])) s.NoBlock (s.Then 3 (s.Set ([]) ([])) s.NoBlock (s.Then 4 (s.Set ([]) ([])) s.NoBlock (s.Then 5 (s.Have (Rel relation.Le (Of2 binary.Add (Number (pos 0)) (Named name_b0)) (Of2 binary.Add (Named name_b0) (Number (pos 4294967295)))) ((record { lines = ((line.Comb (((pos 1), 2) ∷ [])) ∷ []) }) ∷ [])) s.NoBlock (s.Then 6 (s.Set ([]) ([])) s.NoBlock (s.Then 7 (s.Forget (forgotten.Prop 2)) s.NoBlock (s.Then 8 (s.Return ([]) ([]) ([])) s.NoBlock s.End)))))))) ≡ (RefusedAt 1 16 1)
unfolding computing
random_177 = refl

random_178 : body_verdict (record { predicates = ([]); specs = ((record { is_void = false; name = name_f; params = (name_u0 ∷ []); vars = ((name_b0, sort.Int) ∷ []); pre = (record { opened = []; facts = ((Rel relation.Le (Number (pos 0)) (Var 0 sort.Int)) ∷ (Rel relation.Le (Var 0 sort.Int) (Number (pos 4294967295))) ∷ []); locals = ((name_u0, (Of unary.Vi (Var 0 sort.Int))) ∷ []); items = ((Data (Number (pos 64)) (Global name_x) (Of2 binary.Cons (Of unary.Vi (Number (pos 3))) Nil)) ∷ []) }); post = (record { opened = []; facts = ((Rel relation.Eq (Var 1 sort.Val) (Of unary.Vi (Number (pos 2)))) ∷ []); locals = []; items = ((Data (Number (pos 64)) (Global name_x) (Of2 binary.Cons (Of unary.Vi (Number (pos 3))) Nil)) ∷ []) }) }) ∷ (record { is_void = false; name = name_main; params = ([]); vars = []; pre = (record { opened = []; facts = ([]); locals = []; items = ((Data (Number (pos 64)) (Global name_x) (Of2 binary.Cons (Of unary.Vi (Number (pos 3))) Nil)) ∷ []) }); post = (record { opened = []; facts = ((Rel relation.Eq (Var 0 sort.Val) (Of unary.Vi (Number (pos 0)))) ∷ []); locals = []; items = ((Data (Number (pos 64)) (Global name_x) (Of2 binary.Cons (Of unary.Vi (Number (pos 3))) Nil)) ∷ []) }) }) ∷ []) }) (record { is_void = false; name = name_f; params = (name_u0 ∷ []); vars = ((name_b0, sort.Int) ∷ []); pre = (record { opened = []; facts = ((Rel relation.Le (Number (pos 0)) (Var 0 sort.Int)) ∷ (Rel relation.Le (Var 0 sort.Int) (Number (pos 4294967295))) ∷ []); locals = ((name_u0, (Of unary.Vi (Var 0 sort.Int))) ∷ []); items = ((Data (Number (pos 64)) (Global name_x) (Of2 binary.Cons (Of unary.Vi (Number (pos 3))) Nil)) ∷ []) }); post = (record { opened = []; facts = ((Rel relation.Eq (Var 1 sort.Val) (Of unary.Vi (Number (pos 2)))) ∷ []); locals = []; items = ((Data (Number (pos 64)) (Global name_x) (Of2 binary.Cons (Of unary.Vi (Number (pos 3))) Nil)) ∷ []) }) }) (record { temps = (name_u0 ∷ name_s ∷ name_t ∷ name_i ∷ name_x1 ∷ name_d0 ∷ name_p1 ∷ name_q1 ∷ []); body = (c.Then (c.Set 1 (c.Const 2)) (c.Then (c.Set 2 (c.Const 1)) (c.Then (c.Set 2 (c.Binary two.Mul kind.Signed (c.Const 3) (c.Const 2))) (c.Then (c.Set 4 (c.Temp 0)) (c.Then (c.Return (Some (c.Temp 1))) c.End))))) }) (s.Then 1 (s.Set ([]) ([])) s.NoBlock (s.Then 2 (s.Set ([]) ([])) s.NoBlock (s.Then 3 (s.Set ([]) ([])) s.NoBlock (s.Then 4 (s.Have (Rel relation.Le (Of2 binary.Add (Number (pos 0)) (Named name_b0)) (Of2 binary.Add (Named name_b0) (Number (pos 4294967295)))) ((record { lines = ((line.Comb (((pos 1), 2) ∷ [])) ∷ []) }) ∷ [])) s.NoBlock (s.Then 5 (s.Set ([]) ([])) s.NoBlock (s.Then 6 (s.Forget (forgotten.Prop 2)) s.NoBlock (s.Then 7 (s.Return ([]) ([]) ([])) s.NoBlock (s.Then 8 (s.Return ([]) ([]) ([])) s.NoBlock s.End)))))))) ≡ (RefusedAt 8 0 11)
unfolding computing
random_178 = refl

random_179 : body_verdict (record { predicates = ([]); specs = ((record { is_void = false; name = name_f; params = (name_u0 ∷ []); vars = ((name_b0, sort.Int) ∷ []); pre = (record { opened = []; facts = ((Rel relation.Le (Number (pos 0)) (Var 0 sort.Int)) ∷ (Rel relation.Le (Var 0 sort.Int) (Number (pos 4294967295))) ∷ []); locals = ((name_u0, (Of unary.Vi (Var 0 sort.Int))) ∷ []); items = ((Data (Number (pos 64)) (Global name_x) (Of2 binary.Cons (Of unary.Vi (Number (pos 3))) Nil)) ∷ []) }); post = (record { opened = []; facts = ((Rel relation.Eq (Var 1 sort.Val) (Of unary.Vi (Number (pos 2)))) ∷ []); locals = []; items = ((Data (Number (pos 64)) (Global name_x) (Of2 binary.Cons (Of unary.Vi (Number (pos 3))) Nil)) ∷ []) }) }) ∷ (record { is_void = false; name = name_main; params = ([]); vars = []; pre = (record { opened = []; facts = ([]); locals = []; items = ((Data (Number (pos 64)) (Global name_x) (Of2 binary.Cons (Of unary.Vi (Number (pos 3))) Nil)) ∷ []) }); post = (record { opened = []; facts = ((Rel relation.Eq (Var 0 sort.Val) (Of unary.Vi (Number (pos 0)))) ∷ []); locals = []; items = ((Data (Number (pos 64)) (Global name_x) (Of2 binary.Cons (Of unary.Vi (Number (pos 3))) Nil)) ∷ []) }) }) ∷ []) }) (record { is_void = false; name = name_f; params = (name_u0 ∷ []); vars = ((name_b0, sort.Int) ∷ []); pre = (record { opened = []; facts = ((Rel relation.Le (Number (pos 0)) (Var 0 sort.Int)) ∷ (Rel relation.Le (Var 0 sort.Int) (Number (pos 4294967295))) ∷ []); locals = ((name_u0, (Of unary.Vi (Var 0 sort.Int))) ∷ []); items = ((Data (Number (pos 64)) (Global name_x) (Of2 binary.Cons (Of unary.Vi (Number (pos 3))) Nil)) ∷ []) }); post = (record { opened = []; facts = ((Rel relation.Eq (Var 1 sort.Val) (Of unary.Vi (Number (pos 2)))) ∷ []); locals = []; items = ((Data (Number (pos 64)) (Global name_x) (Of2 binary.Cons (Of unary.Vi (Number (pos 3))) Nil)) ∷ []) }) }) (record { temps = (name_u0 ∷ name_s ∷ name_t ∷ name_i ∷ name_x1 ∷ name_d0 ∷ name_p1 ∷ name_q1 ∷ []); body = (c.Then (c.Set 1 (c.Const 2)) (c.Then (c.Set 2 (c.Const 1)) (c.Then (c.Set 2 (c.Binary two.Mul kind.Signed (c.Const 3) (c.Const 2))) (c.Then (c.Set 4 (c.Temp 0)) (c.Then (c.Return (Some (c.Temp 1))) c.End))))) }) (s.Then 1 (s.Set ([]) ([])) s.NoBlock (s.Then 2 (s.Set ([]) ([])) s.NoBlock (s.Then 3 (s.Set ([]) ([])) s.NoBlock (s.Then 4 (s.Have (Rel relation.Le (Of2 binary.Add (Number (pos 0)) (Named name_b0)) (Of2 binary.Add (Named name_b0) (Number (pos 4294967295)))) ((record { lines = ((line.Comb (((pos 1), 2) ∷ [])) ∷ []) }) ∷ [])) s.NoBlock (s.Then 5 (s.Share 0 (Number (pos 32)) ([])) s.NoBlock (s.Then 6 (s.Set ([]) ([])) s.NoBlock (s.Then 7 (s.Forget (forgotten.Prop 2)) s.NoBlock (s.Then 8 (s.Return ([]) ([]) ([])) s.NoBlock s.End)))))))) ≡ (RefusedAt 8 9 5)
unfolding computing
random_179 = refl

random_180 : body_verdict (record { predicates = ([]); specs = ((record { is_void = false; name = name_main; params = ([]); vars = []; pre = (record { opened = []; facts = ([]); locals = []; items = ((Data (Number (pos 64)) (Global name_z) (Of2 binary.Rep (Of unary.Vi (Number (pos 0))) (Number (pos 998)))) ∷ []) }); post = (record { opened = []; facts = ([]); locals = []; items = ([]) }) }) ∷ []) }) (record { is_void = false; name = name_main; params = ([]); vars = []; pre = (record { opened = []; facts = ([]); locals = []; items = ((Data (Number (pos 64)) (Global name_z) (Of2 binary.Rep (Of unary.Vi (Number (pos 0))) (Number (pos 998)))) ∷ []) }); post = (record { opened = []; facts = ([]); locals = []; items = ([]) }) }) (record { temps = ([]); body = (c.Then (c.Return (Some (c.Const 0))) c.End) }) (s.Then 1 (s.Return ([]) ([]) ([])) s.NoBlock s.End) ≡ (RefusedAt 1 9 5)
unfolding computing
random_180 = refl

random_181 : init_verdict (record { predicates = ([]); specs = ((record { is_void = false; name = name_main; params = ([]); vars = []; pre = (record { opened = []; facts = ([]); locals = []; items = ((Data (Number (pos 64)) (Global name_z) (Of2 binary.Rep (Of unary.Vi (Number (pos 0))) (Number (pos 998)))) ∷ []) }); post = (record { opened = []; facts = ([]); locals = []; items = ([]) }) }) ∷ []) }) ((record { name = name_z; cells = 998; values = ([]) }) ∷ []) (record { opened = []; facts = ([]); locals = []; items = ((Data (Number (pos 64)) (Global name_z) (Of2 binary.Rep (Of unary.Vi (Number (pos 0))) (Number (pos 998)))) ∷ []) }) (s.Then 1 (s.Meet ([]) ([])) s.NoBlock s.End) ≡ (RefusedAt 1 37 5)
unfolding computing
random_181 = refl

random_182 : body_verdict (record { predicates = ((record { name = name_E; args = ([]); cases = ((record { opened = []; facts = ([]); locals = []; items = ([]) }) ∷ []) }) ∷ []); specs = ((record { is_void = false; name = name_f; params = ([]); vars = []; pre = (record { opened = []; facts = ([]); locals = []; items = ([]) }); post = (record { opened = []; facts = ((Rel relation.Eq (Var 0 sort.Val) (Of unary.Vi (Number (pos 3)))) ∷ []); locals = []; items = ([]) }) }) ∷ (record { is_void = false; name = name_main; params = ([]); vars = []; pre = (record { opened = []; facts = ([]); locals = []; items = ([]) }); post = (record { opened = []; facts = ((Rel relation.Eq (Var 0 sort.Val) (Of unary.Vi (Number (pos 0)))) ∷ []); locals = []; items = ([]) }) }) ∷ []) }) (record { is_void = false; name = name_f; params = ([]); vars = []; pre = (record { opened = []; facts = ([]); locals = []; items = ([]) }); post = (record { opened = []; facts = ((Rel relation.Eq (Var 0 sort.Val) (Of unary.Vi (Number (pos 3)))) ∷ []); locals = []; items = ([]) }) }) (record { temps = (name_s ∷ name_t ∷ name_i ∷ name_x1 ∷ name_d0 ∷ name_p1 ∷ name_q1 ∷ []); body = (c.Then (c.Set 0 (c.Const 3)) (c.Then (c.Set 1 (c.Const 1)) (c.Then (c.Set 1 (c.Binary two.Add kind.Signed (c.Temp 1) (c.Const 2))) (c.Then (c.Return (Some (c.Temp 0))) c.End)))) }) (s.Then 1 (s.Set ([]) ([])) s.NoBlock (s.Then 2 (s.Set ([]) ([])) s.NoBlock (s.Then 3 (s.Set ([]) ([])) s.NoBlock (s.Then 4 (s.Return ([]) ([]) ([])) s.NoBlock s.End)))) ≡ Accepted
unfolding computing
random_182 = refl

random_183 : body_verdict (record { predicates = ((record { name = name_E; args = ([]); cases = ((record { opened = []; facts = ([]); locals = []; items = ([]) }) ∷ []) }) ∷ []); specs = ((record { is_void = false; name = name_f; params = ([]); vars = []; pre = (record { opened = []; facts = ([]); locals = []; items = ([]) }); post = (record { opened = []; facts = ((Rel relation.Eq (Var 0 sort.Val) (Of unary.Vi (Number (pos 3)))) ∷ []); locals = []; items = ([]) }) }) ∷ (record { is_void = false; name = name_main; params = ([]); vars = []; pre = (record { opened = []; facts = ([]); locals = []; items = ([]) }); post = (record { opened = []; facts = ((Rel relation.Eq (Var 0 sort.Val) (Of unary.Vi (Number (pos 0)))) ∷ []); locals = []; items = ([]) }) }) ∷ []) }) (record { is_void = false; name = name_main; params = ([]); vars = []; pre = (record { opened = []; facts = ([]); locals = []; items = ([]) }); post = (record { opened = []; facts = ((Rel relation.Eq (Var 0 sort.Val) (Of unary.Vi (Number (pos 0)))) ∷ []); locals = []; items = ([]) }) }) (record { temps = ([]); body = (c.Then (c.Return (Some (c.Const 0))) c.End) }) (s.Then 1 (s.Return ([]) ([]) ([])) s.NoBlock s.End) ≡ Accepted
unfolding computing
random_183 = refl

random_184 : body_verdict (record { predicates = ((record { name = name_E; args = ([]); cases = ((record { opened = []; facts = ([]); locals = []; items = ([]) }) ∷ []) }) ∷ []); specs = ((record { is_void = false; name = name_f; params = ([]); vars = []; pre = (record { opened = []; facts = ([]); locals = []; items = ([]) }); post = (record { opened = []; facts = ((Rel relation.Eq (Var 0 sort.Val) (Of unary.Vi (Number (pos 3)))) ∷ []); locals = []; items = ([]) }) }) ∷ (record { is_void = false; name = name_main; params = ([]); vars = []; pre = (record { opened = []; facts = ([]); locals = []; items = ([]) }); post = (record { opened = []; facts = ((Rel relation.Eq (Var 0 sort.Val) (Of unary.Vi (Number (pos 0)))) ∷ []); locals = []; items = ([]) }) }) ∷ []) }) (record { is_void = false; name = name_f; params = ([]); vars = []; pre = (record { opened = []; facts = ([]); locals = []; items = ([]) }); post = (record { opened = []; facts = ((Rel relation.Eq (Var 0 sort.Val) (Of unary.Vi (Number (pos 3)))) ∷ []); locals = []; items = ([]) }) }) (record { temps = (name_s ∷ name_t ∷ name_i ∷ name_x1 ∷ name_d0 ∷ name_p1 ∷ name_q1 ∷ []); body = (c.Then (c.Set 0 (c.Const 3)) (c.Then (c.Set 1 (c.Const 1)) (c.Then (c.Set 1 (c.Binary two.Add kind.Signed (c.Temp 1) (c.Const 2))) (c.Then (c.Return (Some (c.Temp 0))) c.End)))) }) (s.Then 1 (s.Set ([]) ([])) s.NoBlock (s.Then 2 (s.Set ([]) ([])) s.NoBlock (s.Then 3 (s.Return ([]) ([]) ([])) s.NoBlock s.End))) ≡ (RefusedAt 3 9 1)
unfolding computing
random_184 = refl

random_185 : body_verdict (record { predicates = ((record { name = name_E; args = ([]); cases = ((record { opened = []; facts = ([]); locals = []; items = ([]) }) ∷ []) }) ∷ []); specs = ((record { is_void = false; name = name_f; params = ([]); vars = []; pre = (record { opened = []; facts = ([]); locals = []; items = ([]) }); post = (record { opened = []; facts = ((Rel relation.Eq (Var 0 sort.Val) (Of unary.Vi (Number (pos 3)))) ∷ []); locals = []; items = ([]) }) }) ∷ (record { is_void = false; name = name_main; params = ([]); vars = []; pre = (record { opened = []; facts = ([]); locals = []; items = ([]) }); post = (record { opened = []; facts = ((Rel relation.Eq (Var 0 sort.Val) (Of unary.Vi (Number (pos 0)))) ∷ []); locals = []; items = ([]) }) }) ∷ []) }) (record { is_void = false; name = name_f; params = ([]); vars = []; pre = (record { opened = []; facts = ([]); locals = []; items = ([]) }); post = (record { opened = []; facts = ((Rel relation.Eq (Var 0 sort.Val) (Of unary.Vi (Number (pos 3)))) ∷ []); locals = []; items = ([]) }) }) (record { temps = (name_s ∷ name_t ∷ name_i ∷ name_x1 ∷ name_d0 ∷ name_p1 ∷ name_q1 ∷ []); body = (c.Then (c.Set 0 (c.Const 3)) (c.Then (c.Set 1 (c.Const 1)) (c.Then (c.Set 1 (c.Binary two.Add kind.Signed (c.Temp 1) (c.Const 2))) (c.Then (c.Return (Some (c.Temp 0))) c.End)))) }) (s.Then 1 (s.Set ([]) ([])) s.NoBlock (s.Then 2 (s.Set ([]) ([])) s.NoBlock (s.Then 3 (s.Set ([]) ([])) s.NoBlock s.End))) ≡ (RefusedAt 4 0 10)
unfolding computing
random_185 = refl

random_186 : body_verdict (record { predicates = ((record { name = name_E; args = ([]); cases = ((record { opened = []; facts = ([]); locals = []; items = ([]) }) ∷ []) }) ∷ []); specs = ((record { is_void = false; name = name_f; params = ([]); vars = []; pre = (record { opened = []; facts = ([]); locals = []; items = ([]) }); post = (record { opened = []; facts = ((Rel relation.Eq (Var 0 sort.Val) (Of unary.Vi (Number (pos 3)))) ∷ []); locals = []; items = ([]) }) }) ∷ (record { is_void = false; name = name_main; params = ([]); vars = []; pre = (record { opened = []; facts = ([]); locals = []; items = ([]) }); post = (record { opened = []; facts = ((Rel relation.Eq (Var 0 sort.Val) (Of unary.Vi (Number (pos 0)))) ∷ []); locals = []; items = ([]) }) }) ∷ []) }) (record { is_void = false; name = name_f; params = ([]); vars = []; pre = (record { opened = []; facts = ([]); locals = []; items = ([]) }); post = (record { opened = []; facts = ((Rel relation.Eq (Var 0 sort.Val) (Of unary.Vi (Number (pos 3)))) ∷ []); locals = []; items = ([]) }) }) (record { temps = (name_s ∷ name_t ∷ name_i ∷ name_x1 ∷ name_d0 ∷ name_p1 ∷ name_q1 ∷ []); body = (c.Then (c.Set 0 (c.Const 3)) (c.Then (c.Set 1 (c.Const 1)) (c.Then (c.Set 1 (c.Binary two.Add kind.Signed (c.Temp 1) (c.Const 1))) (c.Then (c.Return (Some (c.Temp 0))) c.End)))) }) (s.Then 1 (s.Set ([]) ([])) s.NoBlock (s.Then 2 (s.Set ([]) ([])) s.NoBlock (s.Then 3 (s.Set ([]) ([])) s.NoBlock (s.Then 4 (s.Return ([]) ([]) ([])) s.NoBlock s.End)))) ≡ Accepted
unfolding computing
random_186 = refl

random_187 : body_verdict (record { predicates = ((record { name = name_E; args = ([]); cases = ((record { opened = []; facts = ([]); locals = []; items = ([]) }) ∷ []) }) ∷ []); specs = ((record { is_void = false; name = name_f; params = ([]); vars = []; pre = (record { opened = []; facts = ([]); locals = []; items = ([]) }); post = (record { opened = []; facts = ((Rel relation.Eq (Var 0 sort.Val) (Of unary.Vi (Number (pos 3)))) ∷ []); locals = []; items = ([]) }) }) ∷ (record { is_void = false; name = name_main; params = ([]); vars = []; pre = (record { opened = []; facts = ([]); locals = []; items = ([]) }); post = (record { opened = []; facts = ((Rel relation.Eq (Var 0 sort.Val) (Of unary.Vi (Number (pos 0)))) ∷ []); locals = []; items = ([]) }) }) ∷ []) }) (record { is_void = false; name = name_main; params = ([]); vars = []; pre = (record { opened = []; facts = ([]); locals = []; items = ([]) }); post = (record { opened = []; facts = ((Rel relation.Eq (Var 0 sort.Val) (Of unary.Vi (Number (pos 0)))) ∷ []); locals = []; items = ([]) }) }) (record { temps = ([]); body = (c.Then (c.Return (Some (c.Const 0))) c.End) }) s.End ≡ (RefusedAt 1 0 10)
unfolding computing
random_187 = refl

random_188 : body_verdict (record { predicates = ((record { name = name_E; args = ([]); cases = ((record { opened = []; facts = ([]); locals = []; items = ([]) }) ∷ []) }) ∷ []); specs = ((record { is_void = false; name = name_f; params = ([]); vars = []; pre = (record { opened = []; facts = ([]); locals = []; items = ([]) }); post = (record { opened = []; facts = ((Rel relation.Eq (Var 0 sort.Val) (Of unary.Vi (Number (pos 3)))) ∷ []); locals = []; items = ([]) }) }) ∷ (record { is_void = false; name = name_main; params = ([]); vars = []; pre = (record { opened = []; facts = ([]); locals = []; items = ([]) }); post = (record { opened = []; facts = ((Rel relation.Eq (Var 0 sort.Val) (Of unary.Vi (Number (pos 0)))) ∷ []); locals = []; items = ([]) }) }) ∷ []) }) (record { is_void = false; name = name_f; params = ([]); vars = []; pre = (record { opened = []; facts = ([]); locals = []; items = ([]) }); post = (record { opened = []; facts = ((Rel relation.Eq (Var 0 sort.Val) (Of unary.Vi (Number (pos 3)))) ∷ []); locals = []; items = ([]) }) }) (record { temps = (name_s ∷ name_t ∷ name_i ∷ name_x1 ∷ name_d0 ∷ name_p1 ∷ name_q1 ∷ []); body = (c.Then (c.Set 0 (c.Const 3)) (c.Then (c.Set 1 (c.Const 1)) (c.Then (c.Set 1 (c.Binary two.Add kind.Signed (c.Temp 1) (c.Const 2))) (c.Then (c.Return (Some (c.Temp 0))) c.End)))) }) (s.Then 1 (s.Set ([]) ([])) s.NoBlock (s.Then 2 (s.Set ([]) ([])) s.NoBlock (s.Then 3 (s.Set ([]) ([])) s.NoBlock (s.Then 4 (s.Return (Nil ∷ []) ([]) ([])) s.NoBlock s.End)))) ≡ (RefusedAt 4 9 1)
unfolding computing
random_188 = refl

random_189 : body_verdict (record { predicates = ((record { name = name_E; args = ([]); cases = ((record { opened = []; facts = ([]); locals = []; items = ([]) }) ∷ []) }) ∷ (record { name = name_ov; args = ([]); cases = ((record { opened = (sort.Val ∷ []); facts = ([]); locals = []; items = ((Data (Number (pos 64)) (Global name_x) (Of2 binary.Cons (Var 0 sort.Val) Nil)) ∷ []) }) ∷ []) }) ∷ []); specs = ((record { is_void = false; name = name_main; params = ([]); vars = []; pre = (record { opened = []; facts = ([]); locals = []; items = ((Data (Number (pos 64)) (Global name_x) (Of2 binary.Cons (Of unary.Vi (Number (pos 3))) Nil)) ∷ (Data (Number (pos 64)) (Global name_l) (Of2 binary.Cons (Of unary.Vi (Number (pos 0))) Nil)) ∷ []) }); post = (record { opened = []; facts = ((Rel relation.Eq (Var 0 sort.Val) (Of unary.Vi (Number (pos 0)))) ∷ []); locals = []; items = ((Data (Number (pos 64)) (Global name_x) (Of2 binary.Cons (Of unary.Vi (Number (pos 3))) Nil)) ∷ (Data (Number (pos 64)) (Global name_l) (Of2 binary.Cons Undef Nil)) ∷ []) }) }) ∷ []) }) (record { is_void = false; name = name_main; params = ([]); vars = []; pre = (record { opened = []; facts = ([]); locals = []; items = ((Data (Number (pos 64)) (Global name_x) (Of2 binary.Cons (Of unary.Vi (Number (pos 3))) Nil)) ∷ (Data (Number (pos 64)) (Global name_l) (Of2 binary.Cons (Of unary.Vi (Number (pos 0))) Nil)) ∷ []) }); post = (record { opened = []; facts = ((Rel relation.Eq (Var 0 sort.Val) (Of unary.Vi (Number (pos 0)))) ∷ []); locals = []; items = ((Data (Number (pos 64)) (Global name_x) (Of2 binary.Cons (Of unary.Vi (Number (pos 3))) Nil)) ∷ (Data (Number (pos 64)) (Global name_l) (Of2 binary.Cons Undef Nil)) ∷ []) }) }) (record { temps = (name_s ∷ name_t ∷ name_i ∷ name_x1 ∷ name_d0 ∷ name_p1 ∷ name_q1 ∷ []); body = (c.Then (c.Set 0 (c.Const 0)) (c.Then (c.Set 1 (c.Const 3)) (c.Then (c.OnLock lock.Make (c.Address (root.Global name_l 1) c.Here)) (c.Then (c.OnLock lock.Release (c.Address (root.Global name_l 1) c.Here)) (c.Then (c.Set 0 (c.Temp 0)) (c.Then (c.Set 4 (c.Binary two.Add kind.Signed (c.Binary two.Add kind.Signed (c.Const 1) (c.Const 1)) (c.Const 1))) (c.Then (c.Set 1 (c.Const 2)) (c.Then (c.Set 4 (c.Binary two.Add kind.Signed (c.Const 3) (c.Const 2))) (c.Then (c.OnLock lock.Acquire (c.Address (root.Global name_l 1) c.Here)) (c.Then (c.Load 1 (root.Global name_x 1) c.Here) (c.Then (c.Store (root.Global name_x 1) c.Here (c.Temp 1)) (c.Then (c.OnLock lock.Release (c.Address (root.Global name_l 1) c.Here)) (c.Then (c.OnLock lock.Acquire (c.Address (root.Global name_l 1) c.Here)) (c.Then (c.OnLock lock.Free (c.Address (root.Global name_l 1) c.Here)) (c.Then (c.Return (Some (c.Temp 0))) c.End))))))))))))))) }) (s.Then 1 (s.Set ([]) ([])) s.NoBlock (s.Then 2 (s.Set ([]) ([])) s.NoBlock (s.Then 3 (s.MakeLock 1 (record { name = name_E; args = ([]) }) ([]) ([])) s.NoBlock (s.Then 4 (s.Fold name_E 0 ([]) ([]) ([])) s.NoBlock (s.Then 5 (s.Release 2 3 ([])) s.NoBlock (s.Then 6 (s.Set ([]) ([])) s.NoBlock (s.Then 7 (s.Set ([]) ([])) s.NoBlock (s.Then 8 (s.Set ([]) ([])) s.NoBlock (s.Then 9 (s.Set ([]) ([])) s.NoBlock (s.Then 10 (s.Acquire 1 ([])) s.NoBlock (s.Then 11 (s.Unfold 3 (([]) ∷ [])) (s.WithBlock (s.Then 12 (s.Load 0 ([]) ([])) s.NoBlock (s.Then 13 (s.Store 0 ([]) ([])) s.NoBlock (s.Then 14 (s.Fold name_E 0 ([]) ([]) ([])) s.NoBlock (s.Then 15 (s.Release 2 3 ([])) s.NoBlock (s.Then 16 (s.Acquire 1 ([])) s.NoBlock (s.Then 17 (s.Unfold 3 (([]) ∷ [])) (s.WithBlock (s.Then 18 (s.FreeLock 1 2 ([]) ([])) s.NoBlock (s.Then 19 (s.Return ([]) ([]) ([])) s.NoBlock s.End)) s.NoBlock) s.End)))))) s.NoBlock) s.End))))))))))) ≡ Accepted
unfolding computing
random_189 = refl

random_190 : body_verdict (record { predicates = ((record { name = name_E; args = ([]); cases = ((record { opened = []; facts = ([]); locals = []; items = ([]) }) ∷ []) }) ∷ (record { name = name_ov; args = ([]); cases = ((record { opened = (sort.Val ∷ []); facts = ([]); locals = []; items = ((Data (Number (pos 64)) (Global name_x) (Of2 binary.Cons (Var 0 sort.Val) Nil)) ∷ []) }) ∷ []) }) ∷ []); specs = ((record { is_void = false; name = name_main; params = ([]); vars = []; pre = (record { opened = []; facts = ([]); locals = []; items = ((Data (Number (pos 64)) (Global name_x) (Of2 binary.Cons (Of unary.Vi (Number (pos 3))) Nil)) ∷ (Data (Number (pos 64)) (Global name_l) (Of2 binary.Cons (Of unary.Vi (Number (pos 0))) Nil)) ∷ []) }); post = (record { opened = []; facts = ((Rel relation.Eq (Var 0 sort.Val) (Of unary.Vi (Number (pos 0)))) ∷ []); locals = []; items = ((Data (Number (pos 64)) (Global name_x) (Of2 binary.Cons (Of unary.Vi (Number (pos 3))) Nil)) ∷ (Data (Number (pos 64)) (Global name_l) (Of2 binary.Cons Undef Nil)) ∷ []) }) }) ∷ []) }) (record { is_void = false; name = name_main; params = ([]); vars = []; pre = (record { opened = []; facts = ([]); locals = []; items = ((Data (Number (pos 64)) (Global name_x) (Of2 binary.Cons (Of unary.Vi (Number (pos 3))) Nil)) ∷ (Data (Number (pos 64)) (Global name_l) (Of2 binary.Cons (Of unary.Vi (Number (pos 0))) Nil)) ∷ []) }); post = (record { opened = []; facts = ((Rel relation.Eq (Var 0 sort.Val) (Of unary.Vi (Number (pos 0)))) ∷ []); locals = []; items = ((Data (Number (pos 64)) (Global name_x) (Of2 binary.Cons (Of unary.Vi (Number (pos 3))) Nil)) ∷ (Data (Number (pos 64)) (Global name_l) (Of2 binary.Cons Undef Nil)) ∷ []) }) }) (record { temps = (name_s ∷ name_t ∷ name_i ∷ name_x1 ∷ name_d0 ∷ name_p1 ∷ name_q1 ∷ []); body = (c.Then (c.Set 0 (c.Const 0)) (c.Then (c.Set 1 (c.Const 3)) (c.Then (c.OnLock lock.Make (c.Address (root.Global name_l 1) c.Here)) (c.Then (c.OnLock lock.Release (c.Address (root.Global name_l 1) c.Here)) (c.Then (c.Set 0 (c.Temp 0)) (c.Then (c.Set 4 (c.Binary two.Add kind.Signed (c.Binary two.Add kind.Signed (c.Const 1) (c.Const 1)) (c.Const 1))) (c.Then (c.Set 1 (c.Const 2)) (c.Then (c.Set 4 (c.Binary two.Add kind.Signed (c.Const 3) (c.Const 2))) (c.Then (c.OnLock lock.Acquire (c.Address (root.Global name_l 1) c.Here)) (c.Then (c.Load 1 (root.Global name_x 1) c.Here) (c.Then (c.Store (root.Global name_x 1) c.Here (c.Temp 1)) (c.Then (c.OnLock lock.Release (c.Address (root.Global name_l 1) c.Here)) (c.Then (c.OnLock lock.Acquire (c.Address (root.Global name_l 1) c.Here)) (c.Then (c.OnLock lock.Free (c.Address (root.Global name_l 1) c.Here)) (c.Then (c.Return (Some (c.Temp 0))) c.End))))))))))))))) }) (s.Then 1 (s.Set ([]) ([])) s.NoBlock (s.Then 2 (s.Set ([]) ([])) s.NoBlock (s.Then 3 (s.MakeLock 1 (record { name = name_E; args = ([]) }) ([]) ([])) s.NoBlock (s.Then 4 (s.Fold name_E 0 ([]) ([]) ([])) s.NoBlock (s.Then 5 (s.Release 2 3 ([])) s.NoBlock (s.Then 6 (s.Set ([]) ([])) s.NoBlock (s.Then 7 (s.Fold name_E 0 ([]) ([]) ([])) s.NoBlock (s.Then 8 (s.Set ([]) ([])) s.NoBlock (s.Then 9 (s.Set ([]) ([])) s.NoBlock (s.Then 10 (s.Set ([]) ([])) s.NoBlock (s.Then 11 (s.Acquire 1 ([])) s.NoBlock (s.Then 12 (s.Unfold 3 (([]) ∷ [])) (s.WithBlock (s.Then 13 (s.Load 0 ([]) ([])) s.NoBlock (s.Then 14 (s.Store 0 ([]) ([])) s.NoBlock (s.Then 15 (s.Fold name_E 0 ([]) ([]) ([])) s.NoBlock (s.Then 16 (s.Release 2 3 ([])) s.NoBlock (s.Then 17 (s.Acquire 1 ([])) s.NoBlock (s.Then 18 (s.Unfold 3 (([]) ∷ [])) (s.WithBlock (s.Then 19 (s.FreeLock 1 2 ([]) ([])) s.NoBlock (s.Then 20 (s.Return ([]) ([]) ([])) s.NoBlock s.End)) s.NoBlock) s.End)))))) s.NoBlock) s.End)))))))))))) ≡ (RefusedAt 12 22 1)
unfolding computing
random_190 = refl

random_191 : body_verdict (record { predicates = ((record { name = name_E; args = ([]); cases = ((record { opened = []; facts = ([]); locals = []; items = ([]) }) ∷ []) }) ∷ (record { name = name_ov; args = ([]); cases = ((record { opened = (sort.Val ∷ []); facts = ([]); locals = []; items = ((Data (Number (pos 64)) (Global name_x) (Of2 binary.Cons (Var 0 sort.Val) Nil)) ∷ []) }) ∷ []) }) ∷ []); specs = ((record { is_void = false; name = name_main; params = ([]); vars = []; pre = (record { opened = []; facts = ([]); locals = []; items = ((Data (Number (pos 64)) (Global name_x) (Of2 binary.Cons (Of unary.Vi (Number (pos 3))) Nil)) ∷ (Data (Number (pos 64)) (Global name_l) (Of2 binary.Cons (Of unary.Vi (Number (pos 0))) Nil)) ∷ []) }); post = (record { opened = []; facts = ((Rel relation.Eq (Var 0 sort.Val) (Of unary.Vi (Number (pos 4)))) ∷ []); locals = []; items = ((Data (Number (pos 64)) (Global name_x) (Of2 binary.Cons (Of unary.Vi (Number (pos 3))) Nil)) ∷ (Data (Number (pos 64)) (Global name_l) (Of2 binary.Cons Undef Nil)) ∷ []) }) }) ∷ []) }) (record { is_void = false; name = name_main; params = ([]); vars = []; pre = (record { opened = []; facts = ([]); locals = []; items = ((Data (Number (pos 64)) (Global name_x) (Of2 binary.Cons (Of unary.Vi (Number (pos 3))) Nil)) ∷ (Data (Number (pos 64)) (Global name_l) (Of2 binary.Cons (Of unary.Vi (Number (pos 0))) Nil)) ∷ []) }); post = (record { opened = []; facts = ((Rel relation.Eq (Var 0 sort.Val) (Of unary.Vi (Number (pos 4)))) ∷ []); locals = []; items = ((Data (Number (pos 64)) (Global name_x) (Of2 binary.Cons (Of unary.Vi (Number (pos 3))) Nil)) ∷ (Data (Number (pos 64)) (Global name_l) (Of2 binary.Cons Undef Nil)) ∷ []) }) }) (record { temps = (name_s ∷ name_t ∷ name_i ∷ name_x1 ∷ name_d0 ∷ name_p1 ∷ name_q1 ∷ []); body = (c.Then (c.Set 0 (c.Const 0)) (c.Then (c.Set 1 (c.Const 3)) (c.Then (c.OnLock lock.Make (c.Address (root.Global name_l 1) c.Here)) (c.Then (c.OnLock lock.Release (c.Address (root.Global name_l 1) c.Here)) (c.Then (c.Set 0 (c.Temp 0)) (c.Then (c.Set 4 (c.Binary two.Add kind.Signed (c.Binary two.Add kind.Signed (c.Const 1) (c.Const 1)) (c.Const 1))) (c.Then (c.Set 1 (c.Const 2)) (c.Then (c.Set 4 (c.Binary two.Add kind.Signed (c.Const 3) (c.Const 2))) (c.Then (c.OnLock lock.Acquire (c.Address (root.Global name_l 1) c.Here)) (c.Then (c.Load 1 (root.Global name_x 1) c.Here) (c.Then (c.Store (root.Global name_x 1) c.Here (c.Temp 1)) (c.Then (c.OnLock lock.Release (c.Address (root.Global name_l 1) c.Here)) (c.Then (c.OnLock lock.Acquire (c.Address (root.Global name_l 1) c.Here)) (c.Then (c.OnLock lock.Free (c.Address (root.Global name_l 1) c.Here)) (c.Then (c.Return (Some (c.Temp 0))) c.End))))))))))))))) }) (s.Then 1 (s.Set ([]) ([])) s.NoBlock (s.Then 2 (s.Set ([]) ([])) s.NoBlock (s.Then 3 (s.MakeLock 1 (record { name = name_E; args = ([]) }) ([]) ([])) s.NoBlock (s.Then 4 (s.Fold name_E 0 ([]) ([]) ([])) s.NoBlock (s.Then 5 (s.Release 2 3 ([])) s.NoBlock (s.Then 6 (s.Set ([]) ([])) s.NoBlock (s.Then 7 (s.Set ([]) ([])) s.NoBlock (s.Then 8 (s.Set ([]) ([])) s.NoBlock (s.Then 9 (s.Set ([]) ([])) s.NoBlock (s.Then 10 (s.Set ([]) ([])) s.NoBlock (s.Then 11 (s.Acquire 1 ([])) s.NoBlock (s.Then 12 (s.Unfold 3 (([]) ∷ [])) (s.WithBlock (s.Then 13 (s.Load 0 ([]) ([])) s.NoBlock (s.Then 14 (s.Store 0 ([]) ([])) s.NoBlock (s.Then 15 (s.Fold name_E 0 ([]) ([]) ([])) s.NoBlock (s.Then 16 (s.Release 2 3 ([])) s.NoBlock (s.Then 17 (s.Acquire 1 ([])) s.NoBlock (s.Then 18 (s.Unfold 3 (([]) ∷ [])) (s.WithBlock (s.Then 19 (s.FreeLock 1 2 ([]) ([])) s.NoBlock (s.Then 20 (s.Return ([]) ([]) ([])) s.NoBlock s.End)) s.NoBlock) s.End)))))) s.NoBlock) s.End)))))))))))) ≡ (RefusedAt 10 2 1)
unfolding computing
random_191 = refl

random_192 : body_verdict (record { predicates = ((record { name = name_E; args = ([]); cases = ((record { opened = []; facts = ([]); locals = []; items = ([]) }) ∷ []) }) ∷ (record { name = name_ov; args = ([]); cases = ((record { opened = (sort.Val ∷ []); facts = ([]); locals = []; items = ((Data (Number (pos 64)) (Global name_x) (Of2 binary.Cons (Var 0 sort.Val) Nil)) ∷ []) }) ∷ []) }) ∷ []); specs = ((record { is_void = false; name = name_main; params = ([]); vars = []; pre = (record { opened = []; facts = ([]); locals = []; items = ((Data (Number (pos 64)) (Global name_x) (Of2 binary.Cons (Of unary.Vi (Number (pos 3))) Nil)) ∷ (Data (Number (pos 64)) (Global name_l) (Of2 binary.Cons (Of unary.Vi (Number (pos 0))) Nil)) ∷ []) }); post = (record { opened = []; facts = ((Rel relation.Eq (Var 0 sort.Val) (Of unary.Vi (Number (pos 0)))) ∷ []); locals = []; items = ((Data (Number (pos 64)) (Global name_x) (Of2 binary.Cons (Of unary.Vi (Number (pos 3))) Nil)) ∷ (Data (Number (pos 64)) (Global name_l) (Of2 binary.Cons Undef Nil)) ∷ []) }) }) ∷ []) }) (record { is_void = false; name = name_main; params = ([]); vars = []; pre = (record { opened = []; facts = ([]); locals = []; items = ((Data (Number (pos 64)) (Global name_x) (Of2 binary.Cons (Of unary.Vi (Number (pos 3))) Nil)) ∷ (Data (Number (pos 64)) (Global name_l) (Of2 binary.Cons (Of unary.Vi (Number (pos 0))) Nil)) ∷ []) }); post = (record { opened = []; facts = ((Rel relation.Eq (Var 0 sort.Val) (Of unary.Vi (Number (pos 0)))) ∷ []); locals = []; items = ((Data (Number (pos 64)) (Global name_x) (Of2 binary.Cons (Of unary.Vi (Number (pos 3))) Nil)) ∷ (Data (Number (pos 64)) (Global name_l) (Of2 binary.Cons Undef Nil)) ∷ []) }) }) (record { temps = (name_s ∷ name_t ∷ name_i ∷ name_x1 ∷ name_d0 ∷ name_p1 ∷ name_q1 ∷ []); body = (c.Then (c.Set 0 (c.Const 0)) (c.Then (c.Set 1 (c.Const 3)) (c.Then (c.OnLock lock.Make (c.Address (root.Global name_l 1) c.Here)) (c.Then (c.OnLock lock.Release (c.Address (root.Global name_l 1) c.Here)) (c.Then (c.Set 0 (c.Temp 0)) (c.Then (c.Set 4 (c.Binary two.Add kind.Signed (c.Binary two.Add kind.Signed (c.Const 1) (c.Const 1)) (c.Const 1))) (c.Then (c.Set 1 (c.Const 2)) (c.Then (c.Set 4 (c.Binary two.Add kind.Signed (c.Const 3) (c.Const 2))) (c.Then (c.OnLock lock.Acquire (c.Address (root.Global name_l 1) c.Here)) (c.Then (c.Load 1 (root.Global name_x 1) c.Here) (c.Then (c.Store (root.Global name_x 1) c.Here (c.Temp 1)) (c.Then (c.OnLock lock.Release (c.Address (root.Global name_l 1) c.Here)) (c.Then (c.OnLock lock.Acquire (c.Address (root.Global name_l 1) c.Here)) (c.Then (c.OnLock lock.Free (c.Address (root.Global name_l 1) c.Here)) (c.Then (c.Return (Some (c.Temp 0))) c.End))))))))))))))) }) (s.Then 1 (s.Set ([]) ([])) s.NoBlock (s.Then 2 (s.Set ([]) ([])) s.NoBlock (s.Then 3 (s.MakeLock 1 (record { name = name_E; args = ([]) }) ([]) ([])) s.NoBlock (s.Then 4 (s.Fold name_E 0 ([]) ([]) ([])) s.NoBlock (s.Then 5 (s.Release 2 3 ([])) s.NoBlock (s.Then 6 (s.Set ([]) ([])) s.NoBlock (s.Then 7 (s.Set ([]) ([])) s.NoBlock (s.Then 8 (s.Set ([]) ([])) s.NoBlock (s.Then 9 (s.Set ([]) ([])) s.NoBlock (s.Then 10 (s.Acquire 1 ([])) s.NoBlock (s.Then 11 (s.Acquire 1 ([])) s.NoBlock (s.Then 12 (s.Unfold 3 (([]) ∷ [])) (s.WithBlock (s.Then 13 (s.Load 0 ([]) ([])) s.NoBlock (s.Then 14 (s.Store 0 ([]) ([])) s.NoBlock (s.Then 15 (s.Fold name_E 0 ([]) ([]) ([])) s.NoBlock (s.Then 16 (s.Release 2 3 ([])) s.NoBlock (s.Then 17 (s.Acquire 1 ([])) s.NoBlock (s.Then 18 (s.Unfold 3 (([]) ∷ [])) (s.WithBlock (s.Then 19 (s.FreeLock 1 2 ([]) ([])) s.NoBlock (s.Then 20 (s.Return ([]) ([]) ([])) s.NoBlock s.End)) s.NoBlock) s.End)))))) s.NoBlock) s.End)))))))))))) ≡ (RefusedAt 11 17 1)
unfolding computing
random_192 = refl

random_193 : body_verdict (record { predicates = ((record { name = name_E; args = ([]); cases = ((record { opened = []; facts = ([]); locals = []; items = ([]) }) ∷ []) }) ∷ (record { name = name_ov; args = ([]); cases = ((record { opened = (sort.Val ∷ []); facts = ([]); locals = []; items = ((Data (Number (pos 64)) (Global name_x) (Of2 binary.Cons (Var 0 sort.Val) Nil)) ∷ []) }) ∷ []) }) ∷ []); specs = ((record { is_void = false; name = name_main; params = ([]); vars = []; pre = (record { opened = []; facts = ([]); locals = []; items = ((Data (Number (pos 64)) (Global name_x) (Of2 binary.Cons (Of unary.Vi (Number (pos 3))) Nil)) ∷ (Data (Number (pos 64)) (Global name_l) (Of2 binary.Cons (Of unary.Vi (Number (pos 0))) Nil)) ∷ []) }); post = (record { opened = []; facts = ((Rel relation.Eq (Var 0 sort.Val) (Of unary.Vi (Number (pos 0)))) ∷ []); locals = []; items = ((Data (Number (pos 64)) (Global name_x) (Of2 binary.Cons (Of unary.Vi (Number (pos 3))) Nil)) ∷ (Data (Number (pos 64)) (Global name_l) (Of2 binary.Cons Undef Nil)) ∷ []) }) }) ∷ []) }) (record { is_void = false; name = name_main; params = ([]); vars = []; pre = (record { opened = []; facts = ([]); locals = []; items = ((Data (Number (pos 64)) (Global name_x) (Of2 binary.Cons (Of unary.Vi (Number (pos 3))) Nil)) ∷ (Data (Number (pos 64)) (Global name_l) (Of2 binary.Cons (Of unary.Vi (Number (pos 0))) Nil)) ∷ []) }); post = (record { opened = []; facts = ((Rel relation.Eq (Var 0 sort.Val) (Of unary.Vi (Number (pos 0)))) ∷ []); locals = []; items = ((Data (Number (pos 64)) (Global name_x) (Of2 binary.Cons (Of unary.Vi (Number (pos 3))) Nil)) ∷ (Data (Number (pos 64)) (Global name_l) (Of2 binary.Cons Undef Nil)) ∷ []) }) }) (record { temps = (name_s ∷ name_t ∷ name_i ∷ name_x1 ∷ name_d0 ∷ name_p1 ∷ name_q1 ∷ []); body = (c.Then (c.Set 0 (c.Const 0)) (c.Then (c.Set 1 (c.Const 3)) (c.Then (c.OnLock lock.Make (c.Address (root.Global name_l 1) c.Here)) (c.Then (c.OnLock lock.Release (c.Address (root.Global name_l 1) c.Here)) (c.Then (c.Set 0 (c.Temp 0)) (c.Then (c.Set 4 (c.Binary two.Add kind.Signed (c.Binary two.Add kind.Signed (c.Const 1) (c.Const 1)) (c.Const 1))) (c.Then (c.Set 1 (c.Const 2)) (c.Then (c.Set 4 (c.Binary two.Add kind.Signed (c.Const 3) (c.Const 2))) (c.Then (c.OnLock lock.Acquire (c.Address (root.Global name_l 1) c.Here)) (c.Then (c.Store (root.Global name_x 1) c.Here (c.Temp 1)) (c.Then (c.OnLock lock.Release (c.Address (root.Global name_l 1) c.Here)) (c.Then (c.OnLock lock.Acquire (c.Address (root.Global name_l 1) c.Here)) (c.Then (c.OnLock lock.Free (c.Address (root.Global name_l 1) c.Here)) (c.Then (c.Return (Some (c.Temp 0))) c.End)))))))))))))) }) (s.Then 1 (s.Set ([]) ([])) s.NoBlock (s.Then 2 (s.Set ([]) ([])) s.NoBlock (s.Then 3 (s.MakeLock 1 (record { name = name_E; args = ([]) }) ([]) ([])) s.NoBlock (s.Then 4 (s.Fold name_E 0 ([]) ([]) ([])) s.NoBlock (s.Then 5 (s.Release 2 3 ([])) s.NoBlock (s.Then 6 (s.Set ([]) ([])) s.NoBlock (s.Then 7 (s.Set ([]) ([])) s.NoBlock (s.Then 8 (s.Set ([]) ([])) s.NoBlock (s.Then 9 (s.Set ([]) ([])) s.NoBlock (s.Then 10 (s.Acquire 1 ([])) s.NoBlock (s.Then 11 (s.Unfold 3 (([]) ∷ [])) (s.WithBlock (s.Then 12 (s.Load 0 ([]) ([])) s.NoBlock (s.Then 13 (s.Store 0 ([]) ([])) s.NoBlock (s.Then 14 (s.Fold name_E 0 ([]) ([]) ([])) s.NoBlock (s.Then 15 (s.Release 2 3 ([])) s.NoBlock (s.Then 16 (s.Acquire 1 ([])) s.NoBlock (s.Then 17 (s.Unfold 3 (([]) ∷ [])) (s.WithBlock (s.Then 18 (s.Store 0 ([]) ([])) s.NoBlock (s.Then 19 (s.FreeLock 1 2 ([]) ([])) s.NoBlock (s.Then 20 (s.Return ([]) ([]) ([])) s.NoBlock s.End))) s.NoBlock) s.End)))))) s.NoBlock) s.End))))))))))) ≡ (RefusedAt 12 3 1)
unfolding computing
random_193 = refl

random_194 : body_verdict (record { predicates = ((record { name = name_E; args = ([]); cases = ((record { opened = []; facts = ([]); locals = []; items = ([]) }) ∷ []) }) ∷ (record { name = name_ov; args = ([]); cases = ((record { opened = (sort.Val ∷ []); facts = ([]); locals = []; items = ((Data (Number (pos 64)) (Global name_x) (Of2 binary.Cons (Var 0 sort.Val) Nil)) ∷ []) }) ∷ []) }) ∷ []); specs = ((record { is_void = false; name = name_main; params = ([]); vars = []; pre = (record { opened = []; facts = ([]); locals = []; items = ((Data (Number (pos 64)) (Global name_x) (Of2 binary.Cons (Of unary.Vi (Number (pos 3))) Nil)) ∷ (Data (Number (pos 64)) (Global name_l) (Of2 binary.Cons (Of unary.Vi (Number (pos 0))) Nil)) ∷ []) }); post = (record { opened = []; facts = ((Rel relation.Eq (Var 0 sort.Val) (Of unary.Vi (Number (pos 0)))) ∷ []); locals = []; items = ((Data (Number (pos 64)) (Global name_x) (Of2 binary.Cons (Of unary.Vi (Number (pos 3))) Nil)) ∷ (Data (Number (pos 64)) (Global name_l) (Of2 binary.Cons Undef Nil)) ∷ []) }) }) ∷ []) }) (record { is_void = false; name = name_main; params = ([]); vars = []; pre = (record { opened = []; facts = ([]); locals = []; items = ((Data (Number (pos 64)) (Global name_x) (Of2 binary.Cons (Of unary.Vi (Number (pos 3))) Nil)) ∷ (Data (Number (pos 64)) (Global name_l) (Of2 binary.Cons (Of unary.Vi (Number (pos 0))) Nil)) ∷ []) }); post = (record { opened = []; facts = ((Rel relation.Eq (Var 0 sort.Val) (Of unary.Vi (Number (pos 0)))) ∷ []); locals = []; items = ((Data (Number (pos 64)) (Global name_x) (Of2 binary.Cons (Of unary.Vi (Number (pos 3))) Nil)) ∷ (Data (Number (pos 64)) (Global name_l) (Of2 binary.Cons Undef Nil)) ∷ []) }) }) (record { temps = (name_s ∷ name_t ∷ name_i ∷ name_x1 ∷ name_d0 ∷ name_p1 ∷ name_q1 ∷ []); body = (c.Then (c.Set 0 (c.Const 0)) (c.Then (c.Set 1 (c.Const 3)) (c.Then (c.OnLock lock.Make (c.Address (root.Global name_l 1) c.Here)) (c.Then (c.OnLock lock.Release (c.Address (root.Global name_l 1) c.Here)) (c.Then (c.Set 0 (c.Temp 0)) (c.Then (c.Set 4 (c.Binary two.Add kind.Signed (c.Binary two.Add kind.Signed (c.Const 1) (c.Const 1)) (c.Const 1))) (c.Then (c.Set 1 (c.Const 2)) (c.Then (c.Set 4 (c.Binary two.Add kind.Signed (c.Const 3) (c.Const 2))) (c.Then (c.OnLock lock.Acquire (c.Address (root.Global name_l 1) c.Here)) (c.Then (c.Load 1 (root.Global name_x 1) c.Here) (c.Then (c.Store (root.Global name_x 1) c.Here (c.Temp 1)) (c.Then (c.OnLock lock.Release (c.Address (root.Global name_l 1) c.Here)) (c.Then (c.OnLock lock.Acquire (c.Address (root.Global name_l 1) c.Here)) (c.Then (c.OnLock lock.Free (c.Address (root.Global name_l 1) c.Here)) (c.Then (c.Return (Some (c.Temp 0))) c.End))))))))))))))) }) (s.Then 1 (s.Set ([]) ([])) s.NoBlock (s.Then 2 (s.Set ([]) ([])) s.NoBlock (s.Then 3 (s.MakeLock 1 (record { name = name_E; args = ([]) }) ([]) ([])) s.NoBlock (s.Then 4 (s.Fold name_E 0 ([]) ([]) ([])) s.NoBlock (s.Then 5 (s.Release 2 3 ([])) s.NoBlock (s.Then 6 (s.Set ([]) ([])) s.NoBlock (s.Then 7 (s.Set ([]) ([])) s.NoBlock (s.Then 8 (s.Set ([]) ([])) s.NoBlock (s.Then 9 (s.Subst name_k1) s.NoBlock (s.Then 10 (s.Acquire 1 ([])) s.NoBlock (s.Then 11 (s.Unfold 3 (([]) ∷ [])) (s.WithBlock (s.Then 12 (s.Load 0 ([]) ([])) s.NoBlock (s.Then 13 (s.Store 2 ([]) ([])) s.NoBlock (s.Then 14 (s.Fold name_E 0 ([]) ([]) ([])) s.NoBlock (s.Then 15 (s.Release 2 3 ([])) s.NoBlock (s.Then 16 (s.Acquire 1 ([])) s.NoBlock (s.Then 17 (s.Unfold 3 (([]) ∷ [])) (s.WithBlock (s.Then 18 (s.FreeLock 1 2 ([]) ([])) s.NoBlock (s.Then 19 (s.Return ([]) ([]) ([])) s.NoBlock s.End)) s.NoBlock) s.End)))))) s.NoBlock) s.End))))))))))) ≡ (RefusedAt 9 27 1)
unfolding computing
random_194 = refl

random_195 : body_verdict (record { predicates = ((record { name = name_E; args = ([]); cases = ((record { opened = []; facts = ([]); locals = []; items = ([]) }) ∷ []) }) ∷ (record { name = name_ov; args = ([]); cases = ((record { opened = (sort.Val ∷ []); facts = ([]); locals = []; items = ((Data (Number (pos 64)) (Global name_x) (Of2 binary.Cons (Var 0 sort.Val) Nil)) ∷ []) }) ∷ []) }) ∷ []); specs = ((record { is_void = false; name = name_main; params = ([]); vars = []; pre = (record { opened = []; facts = ([]); locals = []; items = ((Data (Number (pos 64)) (Global name_x) (Of2 binary.Cons (Of unary.Vi (Number (pos 3))) Nil)) ∷ (Data (Number (pos 64)) (Global name_l) (Of2 binary.Cons (Of unary.Vi (Number (pos 0))) Nil)) ∷ []) }); post = (record { opened = []; facts = ((Rel relation.Eq (Var 0 sort.Val) (Of unary.Vi (Number (pos 0)))) ∷ []); locals = []; items = ((Data (Number (pos 64)) (Global name_x) (Of2 binary.Cons (Of unary.Vi (Number (pos 3))) Nil)) ∷ (Data (Number (pos 64)) (Global name_l) (Of2 binary.Cons Undef Nil)) ∷ []) }) }) ∷ []) }) (record { is_void = false; name = name_main; params = ([]); vars = []; pre = (record { opened = []; facts = ([]); locals = []; items = ((Data (Number (pos 64)) (Global name_x) (Of2 binary.Cons (Of unary.Vi (Number (pos 3))) Nil)) ∷ (Data (Number (pos 64)) (Global name_l) (Of2 binary.Cons (Of unary.Vi (Number (pos 0))) Nil)) ∷ []) }); post = (record { opened = []; facts = ((Rel relation.Eq (Var 0 sort.Val) (Of unary.Vi (Number (pos 0)))) ∷ []); locals = []; items = ((Data (Number (pos 64)) (Global name_x) (Of2 binary.Cons (Of unary.Vi (Number (pos 3))) Nil)) ∷ (Data (Number (pos 64)) (Global name_l) (Of2 binary.Cons Undef Nil)) ∷ []) }) }) (record { temps = (name_s ∷ name_t ∷ name_i ∷ name_x1 ∷ name_d0 ∷ name_p1 ∷ name_q1 ∷ []); body = (c.Then (c.Set 0 (c.Const 0)) (c.Then (c.Set 1 (c.Const 3)) (c.Then (c.OnLock lock.Make (c.Address (root.Global name_l 1) c.Here)) (c.Then (c.OnLock lock.Release (c.Address (root.Global name_l 1) c.Here)) (c.Then (c.Set 0 (c.Temp 0)) (c.Then (c.Set 4 (c.Binary two.Add kind.Signed (c.Binary two.Add kind.Signed (c.Const 1) (c.Const 1)) (c.Const 1))) (c.Then (c.Set 1 (c.Const 2)) (c.Then (c.Set 4 (c.Binary two.Add kind.Signed (c.Const 3) (c.Const 2))) (c.Then (c.OnLock lock.Acquire (c.Address (root.Global name_l 1) c.Here)) (c.Then (c.Load 1 (root.Global name_x 1) c.Here) (c.Then (c.Store (root.Global name_x 1) c.Here (c.Temp 1)) (c.Then (c.OnLock lock.Release (c.Address (root.Global name_l 1) c.Here)) (c.Then (c.OnLock lock.Acquire (c.Address (root.Global name_l 1) c.Here)) (c.Then (c.OnLock lock.Free (c.Address (root.Global name_l 1) c.Here)) (c.Then (c.Return (Some (c.Temp 0))) c.End))))))))))))))) }) (s.Then 1 (s.Set ([]) ([])) s.NoBlock (s.Then 2 (s.Naming name_zz (Number (pos 1))) s.NoBlock (s.Then 3 (s.Set ([]) ([])) s.NoBlock (s.Then 4 (s.MakeLock 1 (record { name = name_E; args = ([]) }) ([]) ([])) s.NoBlock (s.Then 5 (s.Fold name_E 0 ([]) ([]) ([])) s.NoBlock (s.Then 6 (s.Release 2 3 ([])) s.NoBlock (s.Then 7 (s.Set ([]) ([])) s.NoBlock (s.Then 8 (s.Set ([]) ([])) s.NoBlock (s.Then 9 (s.Set ([]) ([])) s.NoBlock (s.Then 10 (s.Set ([]) ([])) s.NoBlock (s.Then 11 (s.Acquire 1 ([])) s.NoBlock (s.Then 12 (s.Unfold 3 (([]) ∷ [])) (s.WithBlock (s.Then 13 (s.Load 0 ([]) ([])) s.NoBlock (s.Then 14 (s.Store 0 ([]) ([])) s.NoBlock (s.Then 15 (s.Fold name_E 0 ([]) ([]) ([])) s.NoBlock (s.Then 16 (s.Release 2 3 ([])) s.NoBlock (s.Then 17 (s.Acquire 1 ([])) s.NoBlock (s.Then 18 (s.Unfold 3 (([]) ∷ [])) (s.WithBlock (s.Then 19 (s.FreeLock 1 2 ([]) ([])) s.NoBlock (s.Then 20 (s.Return ([]) ([]) ([])) s.NoBlock s.End)) s.NoBlock) s.End)))))) s.NoBlock) s.End)))))))))))) ≡ Accepted
unfolding computing
random_195 = refl

random_196 : body_verdict (record { predicates = ((record { name = name_E; args = ([]); cases = ((record { opened = []; facts = ([]); locals = []; items = ([]) }) ∷ []) }) ∷ (record { name = name_ov; args = ([]); cases = ((record { opened = (sort.Val ∷ []); facts = ([]); locals = []; items = ((Data (Number (pos 64)) (Global name_x) (Of2 binary.Cons (Var 0 sort.Val) Nil)) ∷ []) }) ∷ []) }) ∷ []); specs = ((record { is_void = false; name = name_main; params = ([]); vars = []; pre = (record { opened = []; facts = ([]); locals = []; items = ((Data (Number (pos 64)) (Global name_x) (Of2 binary.Cons (Of unary.Vi (Number (pos 3))) Nil)) ∷ (Data (Number (pos 64)) (Global name_l) (Of2 binary.Cons (Of unary.Vi (Number (pos 0))) Nil)) ∷ []) }); post = (record { opened = []; facts = ((Rel relation.Eq (Var 0 sort.Val) (Of unary.Vi (Number (pos 0)))) ∷ []); locals = []; items = ((Data (Number (pos 64)) (Global name_x) (Of2 binary.Cons (Of unary.Vi (Number (pos 3))) Nil)) ∷ (Data (Number (pos 64)) (Global name_l) (Of2 binary.Cons Undef Nil)) ∷ []) }) }) ∷ []) }) (record { is_void = false; name = name_main; params = ([]); vars = []; pre = (record { opened = []; facts = ([]); locals = []; items = ((Data (Number (pos 64)) (Global name_x) (Of2 binary.Cons (Of unary.Vi (Number (pos 3))) Nil)) ∷ (Data (Number (pos 64)) (Global name_l) (Of2 binary.Cons (Of unary.Vi (Number (pos 0))) Nil)) ∷ []) }); post = (record { opened = []; facts = ((Rel relation.Eq (Var 0 sort.Val) (Of unary.Vi (Number (pos 0)))) ∷ []); locals = []; items = ((Data (Number (pos 64)) (Global name_x) (Of2 binary.Cons (Of unary.Vi (Number (pos 3))) Nil)) ∷ (Data (Number (pos 64)) (Global name_l) (Of2 binary.Cons Undef Nil)) ∷ []) }) }) (record { temps = (name_s ∷ name_t ∷ name_i ∷ name_x1 ∷ name_d0 ∷ name_p1 ∷ name_q1 ∷ []); body = (c.Then (c.Set 0 (c.Const 0)) (c.Then (c.Set 1 (c.Const 3)) (c.Then (c.OnLock lock.Make (c.Address (root.Global name_l 1) c.Here)) (c.Then (c.OnLock lock.Release (c.Address (root.Global name_l 1) c.Here)) (c.Then (c.Set 0 (c.Temp 0)) (c.Then (c.Set 4 (c.Binary two.Add kind.Signed (c.Binary two.Add kind.Signed (c.Const 1) (c.Const 1)) (c.Const 1))) (c.Then (c.Set 1 (c.Const 2)) (c.Then (c.Set 4 (c.Binary two.Add kind.Signed (c.Const 3) (c.Const 2))) (c.Then (c.OnLock lock.Acquire (c.Address (root.Global name_l 1) c.Here)) (c.Then (c.Load 1 (root.Global name_x 1) c.Here) (c.Then (c.Store (root.Global name_x 1) c.Here (c.Temp 1)) (c.Then (c.OnLock lock.Release (c.Address (root.Global name_l 1) c.Here)) (c.Then (c.OnLock lock.Acquire (c.Address (root.Global name_l 1) c.Here)) (c.Then (c.OnLock lock.Free (c.Address (root.Global name_l 1) c.Here)) (c.Then (c.Return (Some (c.Temp 0))) c.End))))))))))))))) }) (s.Then 1 (s.Set ([]) ([])) s.NoBlock (s.Then 2 (s.MakeLock 1 (record { name = name_E; args = ([]) }) ([]) ([])) s.NoBlock (s.Then 3 (s.Fold name_E 0 ([]) ([]) ([])) s.NoBlock (s.Then 4 (s.Release 2 3 ([])) s.NoBlock (s.Then 5 (s.Set ([]) ([])) s.NoBlock (s.Then 6 (s.Set ([]) ([])) s.NoBlock (s.Then 7 (s.Set ([]) ([])) s.NoBlock (s.Then 8 (s.Set ([]) ([])) s.NoBlock (s.Then 9 (s.Acquire 1 ([])) s.NoBlock (s.Then 10 (s.Unfold 3 (([]) ∷ [])) (s.WithBlock (s.Then 11 (s.Load 0 ([]) ([])) s.NoBlock (s.Then 12 (s.Store 0 ([]) ([])) s.NoBlock (s.Then 13 (s.Fold name_E 0 ([]) ([]) ([])) s.NoBlock (s.Then 14 (s.Release 2 3 ([])) s.NoBlock (s.Then 15 (s.Acquire 1 ([])) s.NoBlock (s.Then 16 (s.Unfold 3 (([]) ∷ [])) (s.WithBlock (s.Then 17 (s.FreeLock 1 2 ([]) ([])) s.NoBlock (s.Then 18 (s.Return ([]) ([]) ([])) s.NoBlock s.End)) s.NoBlock) s.End)))))) s.NoBlock) s.End)))))))))) ≡ (RefusedAt 2 16 1)
unfolding computing
random_196 = refl

random_197 : body_verdict (record { predicates = ((record { name = name_E; args = ([]); cases = ((record { opened = []; facts = ([]); locals = []; items = ([]) }) ∷ []) }) ∷ []); specs = ((record { is_void = true; name = name_put; params = (name_p ∷ name_k ∷ []); vars = ((name_v, sort.Val) ∷ (name_w, sort.Val) ∷ (name_o, sort.Val) ∷ []); pre = (record { opened = []; facts = ([]); locals = ((name_p, (Var 0 sort.Val)) ∷ (name_k, (Var 1 sort.Val)) ∷ []); items = ((Data (Number (pos 64)) (Var 0 sort.Val) (Of2 binary.Cons (Var 2 sort.Val) Nil)) ∷ []) }); post = (record { opened = []; facts = ([]); locals = []; items = ((Data (Number (pos 64)) (Var 0 sort.Val) (Of2 binary.Cons (Var 1 sort.Val) Nil)) ∷ []) }) }) ∷ (record { is_void = false; name = name_main; params = ([]); vars = []; pre = (record { opened = []; facts = ([]); locals = []; items = ((Data (Number (pos 64)) (Global name_g) (Of2 binary.Cons (Of unary.Vi (Number (pos 3))) Nil)) ∷ []) }); post = (record { opened = []; facts = ((Rel relation.Eq (Var 0 sort.Val) (Of unary.Vi (Number (pos 5)))) ∷ []); locals = []; items = ((Data (Number (pos 64)) (Global name_g) (Of2 binary.Cons (Of unary.Vi (Number (pos 3))) Nil)) ∷ []) }) }) ∷ []) }) (record { is_void = false; name = name_main; params = ([]); vars = []; pre = (record { opened = []; facts = ([]); locals = []; items = ((Data (Number (pos 64)) (Global name_g) (Of2 binary.Cons (Of unary.Vi (Number (pos 3))) Nil)) ∷ []) }); post = (record { opened = []; facts = ((Rel relation.Eq (Var 0 sort.Val) (Of unary.Vi (Number (pos 5)))) ∷ []); locals = []; items = ((Data (Number (pos 64)) (Global name_g) (Of2 binary.Cons (Of unary.Vi (Number (pos 3))) Nil)) ∷ []) }) }) (record { temps = (name_s ∷ name_t ∷ name_i ∷ name_x1 ∷ name_d0 ∷ name_p1 ∷ name_q1 ∷ []); body = (c.Then (c.Set 0 (c.Const 1)) (c.Then (c.Set 1 (c.Const 3)) (c.Then (c.Set 0 (c.Const 5)) (c.Then (c.Set 1 (c.Binary two.Mul kind.Signed (c.Const 3) (c.Binary two.Div kind.Signed (c.Temp 1) (c.Temp 1)))) (c.Then (c.Set 4 (c.Binary two.Add kind.Signed (c.Binary two.Add kind.Signed (c.Const 3) (c.Const 2)) (c.Const 1))) (c.Then (c.Call None name_put ((c.Address (root.Global name_g 1) c.Here) ∷ (c.Const 3) ∷ [])) (c.Then (c.Load 1 (root.Global name_g 1) c.Here) (c.Then (c.Set 3 (c.Const 7)) (c.Then (c.Return (Some (c.Temp 0))) c.End))))))))) }) (s.Then 1 (s.Set ([]) ([])) s.NoBlock (s.Then 2 (s.Set ([]) ([])) s.NoBlock (s.Then 3 (s.Set ([]) ([])) s.NoBlock (s.Then 4 (s.Set ([]) ([])) s.NoBlock (s.Then 5 (s.Set ([]) ([])) s.NoBlock (s.Then 6 (s.Call ((Global name_g) ∷ (Of unary.Vi (Number (pos 3))) ∷ (Of unary.Vi (Number (pos 3))) ∷ []) ([]) ([]) ([])) s.NoBlock (s.Then 7 (s.Load 0 ([]) ([])) s.NoBlock (s.Then 8 (s.Set ([]) ([])) s.NoBlock (s.Then 9 (s.Return ([]) ([]) ([])) s.NoBlock s.End))))))))) ≡ Accepted
unfolding computing
random_197 = refl

random_198 : body_verdict (record { predicates = ((record { name = name_E; args = ([]); cases = ((record { opened = []; facts = ([]); locals = []; items = ([]) }) ∷ []) }) ∷ []); specs = ((record { is_void = true; name = name_put; params = (name_p ∷ name_k ∷ []); vars = ((name_v, sort.Val) ∷ (name_w, sort.Val) ∷ (name_o, sort.Val) ∷ []); pre = (record { opened = []; facts = ([]); locals = ((name_p, (Var 0 sort.Val)) ∷ (name_k, (Var 1 sort.Val)) ∷ []); items = ((Data (Number (pos 64)) (Var 0 sort.Val) (Of2 binary.Cons (Var 2 sort.Val) Nil)) ∷ []) }); post = (record { opened = []; facts = ([]); locals = []; items = ((Data (Number (pos 64)) (Var 0 sort.Val) (Of2 binary.Cons (Var 1 sort.Val) Nil)) ∷ []) }) }) ∷ (record { is_void = false; name = name_main; params = ([]); vars = []; pre = (record { opened = []; facts = ([]); locals = []; items = ((Data (Number (pos 64)) (Global name_g) (Of2 binary.Cons (Of unary.Vi (Number (pos 3))) Nil)) ∷ []) }); post = (record { opened = []; facts = ((Rel relation.Eq (Var 0 sort.Val) (Of unary.Vi (Number (pos 5)))) ∷ []); locals = []; items = ((Data (Number (pos 64)) (Global name_g) (Of2 binary.Cons (Of unary.Vi (Number (pos 3))) Nil)) ∷ []) }) }) ∷ []) }) (record { is_void = true; name = name_put; params = (name_p ∷ name_k ∷ []); vars = ((name_v, sort.Val) ∷ (name_w, sort.Val) ∷ (name_o, sort.Val) ∷ []); pre = (record { opened = []; facts = ([]); locals = ((name_p, (Var 0 sort.Val)) ∷ (name_k, (Var 1 sort.Val)) ∷ []); items = ((Data (Number (pos 64)) (Var 0 sort.Val) (Of2 binary.Cons (Var 2 sort.Val) Nil)) ∷ []) }); post = (record { opened = []; facts = ([]); locals = []; items = ((Data (Number (pos 64)) (Var 0 sort.Val) (Of2 binary.Cons (Var 1 sort.Val) Nil)) ∷ []) }) }) (record { temps = (name_p ∷ name_k ∷ []); body = (c.Then (c.Store (root.Temp 0) c.Here (c.Temp 1)) (c.Then (c.Return None) c.End)) }) (s.Then 1 (s.Store 0 ([]) ([])) s.NoBlock (s.Then 2 (s.Return ([]) ([]) ([])) s.NoBlock s.End)) ≡ Accepted
unfolding computing
random_198 = refl

random_199 : body_verdict (record { predicates = ((record { name = name_E; args = ([]); cases = ((record { opened = []; facts = ([]); locals = []; items = ([]) }) ∷ []) }) ∷ []); specs = ((record { is_void = true; name = name_put; params = (name_p ∷ name_k ∷ []); vars = ((name_v, sort.Val) ∷ (name_w, sort.Val) ∷ (name_o, sort.Val) ∷ []); pre = (record { opened = []; facts = ([]); locals = ((name_p, (Var 0 sort.Val)) ∷ (name_k, (Var 1 sort.Val)) ∷ []); items = ((Data (Number (pos 64)) (Var 0 sort.Val) (Of2 binary.Cons (Var 2 sort.Val) Nil)) ∷ []) }); post = (record { opened = []; facts = ([]); locals = []; items = ((Data (Number (pos 64)) (Var 0 sort.Val) (Of2 binary.Cons (Var 1 sort.Val) Nil)) ∷ []) }) }) ∷ (record { is_void = false; name = name_main; params = ([]); vars = []; pre = (record { opened = []; facts = ([]); locals = []; items = ((Data (Number (pos 64)) (Global name_g) (Of2 binary.Cons (Of unary.Vi (Number (pos 3))) Nil)) ∷ []) }); post = (record { opened = []; facts = ((Rel relation.Eq (Var 0 sort.Val) (Of unary.Vi (Number (pos 5)))) ∷ []); locals = []; items = ((Data (Number (pos 64)) (Global name_g) (Of2 binary.Cons (Of unary.Vi (Number (pos 3))) Nil)) ∷ []) }) }) ∷ []) }) (record { is_void = false; name = name_main; params = ([]); vars = []; pre = (record { opened = []; facts = ([]); locals = []; items = ((Data (Number (pos 64)) (Global name_g) (Of2 binary.Cons (Of unary.Vi (Number (pos 3))) Nil)) ∷ []) }); post = (record { opened = []; facts = ((Rel relation.Eq (Var 0 sort.Val) (Of unary.Vi (Number (pos 5)))) ∷ []); locals = []; items = ((Data (Number (pos 64)) (Global name_g) (Of2 binary.Cons (Of unary.Vi (Number (pos 3))) Nil)) ∷ []) }) }) (record { temps = (name_s ∷ name_t ∷ name_i ∷ name_x1 ∷ name_d0 ∷ name_p1 ∷ name_q1 ∷ []); body = (c.Then (c.Set 0 (c.Const 1)) (c.Then (c.Set 1 (c.Const 3)) (c.Then (c.Set 0 (c.Const 5)) (c.Then (c.Set 1 (c.Binary two.Mul kind.Signed (c.Const 3) (c.Binary two.Div kind.Signed (c.Temp 1) (c.Temp 1)))) (c.Then (c.Set 4 (c.Binary two.Add kind.Signed (c.Binary two.Add kind.Signed (c.Const 3) (c.Const 2)) (c.Const 1))) (c.Then (c.Call None name_put ((c.Address (root.Global name_g 1) c.Here) ∷ (c.Const 3) ∷ [])) (c.Then (c.Load 1 (root.Global name_g 1) c.Here) (c.Then (c.Set 3 (c.Const 7)) (c.Then (c.Return (Some (c.Temp 0))) c.End))))))))) }) (s.Then 1 (s.Set ([]) ([])) s.NoBlock (s.Then 2 (s.Set ([]) ([])) s.NoBlock (s.Then 3 (s.Set ([]) ([])) s.NoBlock (s.Then 4 (s.Set ([]) ([])) s.NoBlock (s.Then 5 (s.Set ([]) ([])) s.NoBlock (s.Then 6 (s.Call ((Global name_g) ∷ (Of unary.Vi (Number (pos 3))) ∷ (Of unary.Vi (Number (pos 2))) ∷ []) ([]) ([]) ([])) s.NoBlock (s.Then 7 (s.Load 0 ([]) ([])) s.NoBlock (s.Then 8 (s.Set ([]) ([])) s.NoBlock (s.Then 9 (s.Return ([]) ([]) ([])) s.NoBlock s.End))))))))) ≡ (RefusedAt 6 13 5)
unfolding computing
random_199 = refl

random_200 : body_verdict (record { predicates = ((record { name = name_E; args = ([]); cases = ((record { opened = []; facts = ([]); locals = []; items = ([]) }) ∷ []) }) ∷ []); specs = ((record { is_void = true; name = name_put; params = (name_p ∷ name_k ∷ []); vars = ((name_v, sort.Val) ∷ (name_w, sort.Val) ∷ (name_o, sort.Val) ∷ []); pre = (record { opened = []; facts = ([]); locals = ((name_p, (Var 0 sort.Val)) ∷ (name_k, (Var 1 sort.Val)) ∷ []); items = ((Data (Number (pos 64)) (Var 0 sort.Val) (Of2 binary.Cons (Var 2 sort.Val) Nil)) ∷ []) }); post = (record { opened = []; facts = ([]); locals = []; items = ((Data (Number (pos 64)) (Var 0 sort.Val) (Of2 binary.Cons (Var 1 sort.Val) Nil)) ∷ []) }) }) ∷ (record { is_void = false; name = name_main; params = ([]); vars = []; pre = (record { opened = []; facts = ([]); locals = []; items = ((Data (Number (pos 64)) (Global name_g) (Of2 binary.Cons (Of unary.Vi (Number (pos 3))) Nil)) ∷ []) }); post = (record { opened = []; facts = ((Rel relation.Eq (Var 0 sort.Val) (Of unary.Vi (Number (pos 5)))) ∷ []); locals = []; items = ((Data (Number (pos 64)) (Global name_g) (Of2 binary.Cons (Of unary.Vi (Number (pos 3))) Nil)) ∷ []) }) }) ∷ []) }) (record { is_void = false; name = name_main; params = ([]); vars = []; pre = (record { opened = []; facts = ([]); locals = []; items = ((Data (Number (pos 64)) (Global name_g) (Of2 binary.Cons (Of unary.Vi (Number (pos 3))) Nil)) ∷ []) }); post = (record { opened = []; facts = ((Rel relation.Eq (Var 0 sort.Val) (Of unary.Vi (Number (pos 5)))) ∷ []); locals = []; items = ((Data (Number (pos 64)) (Global name_g) (Of2 binary.Cons (Of unary.Vi (Number (pos 3))) Nil)) ∷ []) }) }) (record { temps = (name_s ∷ name_t ∷ name_i ∷ name_x1 ∷ name_d0 ∷ name_p1 ∷ name_q1 ∷ []); body = (c.Then (c.Set 0 (c.Const 1)) (c.Then (c.Set 1 (c.Const 3)) (c.Then (c.Set 0 (c.Const 5)) (c.Then (c.Set 1 (c.Binary two.Mul kind.Signed (c.Const 3) (c.Binary two.Div kind.Signed (c.Temp 1) (c.Temp 1)))) (c.Then (c.Set 4 (c.Binary two.Add kind.Signed (c.Binary two.Add kind.Signed (c.Const 3) (c.Const 2)) (c.Const 1))) (c.Then (c.Call None name_put ((c.Address (root.Global name_g 1) c.Here) ∷ (c.Const 3) ∷ [])) (c.Then (c.Load 1 (root.Global name_g 1) c.Here) (c.Then (c.Set 3 (c.Const 1)) (c.Then (c.Return (Some (c.Temp 0))) c.End))))))))) }) (s.Then 1 (s.Set ([]) ([])) s.NoBlock (s.Then 2 (s.Set ([]) ([])) s.NoBlock (s.Then 3 (s.Set ([]) ([])) s.NoBlock (s.Then 4 (s.Set ([]) ([])) s.NoBlock (s.Then 5 (s.Set ([]) ([])) s.NoBlock (s.Then 6 (s.Call ((Global name_g) ∷ (Of unary.Vi (Number (pos 3))) ∷ (Of unary.Vi (Number (pos 3))) ∷ []) ([]) ([]) ([])) s.NoBlock (s.Then 7 (s.Load 0 ([]) ([])) s.NoBlock (s.Then 8 (s.Set ([]) ([])) s.NoBlock (s.Then 9 (s.Return ([]) ([]) ([])) s.NoBlock s.End))))))))) ≡ Accepted
unfolding computing
random_200 = refl
