-- Random works.
use Rattle.std.specs.Prelude.{◌≡◌, refl, pos, [], ◌∷◌, true, false, Some, None}
use Rattle.vd_terms.specs.Terms.{Number, Var, Named, Global, Undef, Nil, Of, Of2, Of3}
use Rattle.vd_terms.specs.declared.assertion.FactOf.TheVariants.{Rel}
use Rattle.vd_terms.specs.declared.assertion.ItemOf.TheVariants.{Data, Pred}
use Rattle.vd_rules.specs.Computing.{computing}
use Rattle.vd_rules.specs.Verdicts.{Accepted, RefusedAt, body_verdict}
use Rattle.vd_terms.specs.declared.operation.Unary.TheVariants as unary
use Rattle.vd_terms.specs.declared.operation.Binary.TheVariants as binary
use Rattle.vd_terms.specs.declared.operation.Ternary.TheVariants as ternary
use Rattle.vd_logic.specs.declared.term.Sort.TheVariants as sort
use Rattle.vd_logic.specs.declared.assertion.Rel.TheVariants as relation
use Rattle.vd_logic.specs.declared.step.CertLine.TheVariants as line
use Rattle.vd_logic.specs.declared.step.Occurrence.TheVariants as occurrence
use Rattle.vd_clight.specs.declared.syntax.UnOp.TheVariants as one
use Rattle.vd_clight.specs.declared.syntax.BinOp.TheVariants as two
use Rattle.vd_clight.specs.declared.typed.Kind.TheVariants as kind
use Rattle.vd_clight.specs.declared.typed.Root.TheVariants as root
use Rattle.vd_clight.specs.declared.typed.LockOp.TheVariants as lock
use Rattle.vd_steps.specs.Code as c
use Rattle.vd_steps.specs.Script as s
use Rattle.vd_examples.specs.Names.{name_E, name_a, name_a0, name_arr, name_b0, name_b1, name_d0, name_e0, name_e2, name_f, name_g, name_h1, name_i, name_i0, name_iv, name_k1, name_k2, name_k3, name_k4, name_k5, name_l, name_l0, name_l2, name_len_rep, name_len_upd, name_main, name_n, name_n0, name_nop, name_ov, name_p1, name_pos, name_q1, name_r0, name_r2, name_s, name_s1, name_t, name_two, name_u0, name_u1, name_w1, name_x, name_x1, name_zz}

random_801 : body_verdict (record { predicates = ((record { name = name_iv; args = ([]); cases = ((record { opened = (sort.Int ∷ []); facts = ((Rel relation.Le (Number (pos 0)) (Var 0 sort.Int)) ∷ (Rel relation.Le (Var 0 sort.Int) (Number (pos 50))) ∷ []); locals = []; items = ((Data (Number (pos 64)) (Global name_x) (Of2 binary.Cons (Of unary.Vi (Var 0 sort.Int)) Nil)) ∷ []) }) ∷ []) }) ∷ []); specs = ((record { is_void = false; name = name_main; params = ([]); vars = []; pre = (record { opened = []; facts = ([]); locals = []; items = ((Data (Number (pos 64)) (Global name_g) (Of2 binary.Cons (Of unary.Vi (Number (pos 3))) Nil)) ∷ (Data (Number (pos 64)) (Global name_arr) (Of2 binary.Cons (Of unary.Vi (Number (pos 1))) (Of2 binary.Cons (Of unary.Vi (Number (pos 2))) (Of2 binary.Cons (Of unary.Vi (Number (pos 0))) (Of2 binary.Cons (Of unary.Vi (Number (pos 0))) Nil))))) ∷ (Data (Number (pos 64)) (Global name_x) (Of2 binary.Cons (Of unary.Vi (Number (pos 3))) Nil)) ∷ (Data (Number (pos 64)) (Global name_l) (Of2 binary.Cons (Of unary.Vi (Number (pos 0))) Nil)) ∷ []) }); post = (record { opened = (sort.List ∷ []); facts = ((Rel relation.Eq (Var 0 sort.Val) (Of unary.Vi (Number (pos 3)))) ∷ []); locals = []; items = ((Data (Number (pos 64)) (Global name_g) (Of2 binary.Cons (Of unary.Vi (Number (pos 4294967294))) Nil)) ∷ (Data (Number (pos 64)) (Global name_arr) (Of2 binary.Cons (Of unary.Vi (Number (pos 1))) (Of2 binary.Cons (Of unary.Vi (Number (pos 2))) (Of2 binary.Cons (Of unary.Vi (Number (pos 0))) (Of2 binary.Cons (Of unary.Vi (Number (pos 0))) Nil))))) ∷ (Data (Number (pos 64)) (Global name_x) (Var 1 sort.List)) ∷ (Data (Number (pos 64)) (Global name_l) (Of2 binary.Cons Undef Nil)) ∷ []) }) }) ∷ []) }) (record { is_void = false; name = name_main; params = ([]); vars = []; pre = (record { opened = []; facts = ([]); locals = []; items = ((Data (Number (pos 64)) (Global name_g) (Of2 binary.Cons (Of unary.Vi (Number (pos 3))) Nil)) ∷ (Data (Number (pos 64)) (Global name_arr) (Of2 binary.Cons (Of unary.Vi (Number (pos 1))) (Of2 binary.Cons (Of unary.Vi (Number (pos 2))) (Of2 binary.Cons (Of unary.Vi (Number (pos 0))) (Of2 binary.Cons (Of unary.Vi (Number (pos 0))) Nil))))) ∷ (Data (Number (pos 64)) (Global name_x) (Of2 binary.Cons (Of unary.Vi (Number (pos 3))) Nil)) ∷ (Data (Number (pos 64)) (Global name_l) (Of2 binary.Cons (Of unary.Vi (Number (pos 0))) Nil)) ∷ []) }); post = (record { opened = (sort.List ∷ []); facts = ((Rel relation.Eq (Var 0 sort.Val) (Of unary.Vi (Number (pos 3)))) ∷ []); locals = []; items = ((Data (Number (pos 64)) (Global name_g) (Of2 binary.Cons (Of unary.Vi (Number (pos 4294967294))) Nil)) ∷ (Data (Number (pos 64)) (Global name_arr) (Of2 binary.Cons (Of unary.Vi (Number (pos 1))) (Of2 binary.Cons (Of unary.Vi (Number (pos 2))) (Of2 binary.Cons (Of unary.Vi (Number (pos 0))) (Of2 binary.Cons (Of unary.Vi (Number (pos 0))) Nil))))) ∷ (Data (Number (pos 64)) (Global name_x) (Var 1 sort.List)) ∷ (Data (Number (pos 64)) (Global name_l) (Of2 binary.Cons Undef Nil)) ∷ []) }) }) (record { temps = (name_s ∷ name_t ∷ name_i ∷ name_x1 ∷ name_d0 ∷ name_p1 ∷ name_q1 ∷ []); body = (c.Then (c.Set 0 (c.Const 2)) (c.Then (c.Set 1 (c.Const 3)) (c.Then (c.OnLock lock.Make (c.Address (root.Global name_l 1) c.Here)) (c.Then (c.OnLock lock.Release (c.Address (root.Global name_l 1) c.Here)) (c.Then (c.Set 3 (c.Binary two.Add kind.Unsigned (c.Const 4294967295) (c.Const 1))) (c.Then (c.Load 0 (root.Global name_g 1) c.Here) (c.Then (c.Set 4 (c.Binary two.Lt kind.Signed (c.Const 3) (c.Const 1))) (c.Then (c.Set 3 (c.Binary two.Shl kind.Unsigned (c.Const 1) (c.Const 4))) (c.Then c.Skip (c.Then (c.Store (root.Global name_g 1) c.Here (c.Binary two.Sub kind.Signed (c.Temp 4) (c.Const 2))) (c.Then (c.OnLock lock.Acquire (c.Address (root.Global name_l 1) c.Here)) (c.Then (c.OnLock lock.Free (c.Address (root.Global name_l 1) c.Here)) (c.Then (c.Return (Some (c.Temp 0))) c.End))))))))))))) }) (s.Then 1 (s.Have (Rel relation.Ne (Of unary.Vi (Number (pos 1))) (Of unary.Vi (Number (pos 2)))) ([])) s.NoBlock (s.Then 2 (s.Set ([]) ([])) s.NoBlock (s.Then 3 (s.Set ([]) ([])) s.NoBlock (s.Then 4 (s.MakeLock 3 (record { name = name_iv; args = ([]) }) ([]) ([])) s.NoBlock (s.Then 5 (s.Law name_len_rep ((Of unary.Vi (Number (pos 3))) ∷ (Number (pos 5)) ∷ []) ([])) s.NoBlock (s.Then 6 (s.Fold name_iv 0 ([]) ((Number (pos 3)) ∷ []) ([])) s.NoBlock (s.Then 7 (s.Release 3 4 ([])) s.NoBlock (s.Then 8 (s.Rewrite false 1 (occurrence.Prop 0)) s.NoBlock (s.Then 9 (s.Set ([]) ([])) s.NoBlock (s.Then 10 (s.Load 0 ([]) ([])) s.NoBlock (s.Then 11 (s.Set ([]) ([])) s.NoBlock (s.Then 12 (s.Set ([]) ([])) s.NoBlock (s.Then 13 s.Skip s.NoBlock (s.Then 14 (s.Acquire 2 ([])) s.NoBlock (s.Then 15 (s.Store 0 ([]) ([])) s.NoBlock (s.Then 16 (s.Unfold 4 ((name_k1 ∷ []) ∷ [])) (s.WithBlock (s.Then 17 (s.FreeLock 2 3 ([]) ([])) s.NoBlock (s.Then 18 (s.Return ((Of2 binary.Cons (Of unary.Vi (Named name_k1)) Nil) ∷ []) ([]) ([])) s.NoBlock s.End)) s.NoBlock) s.End)))))))))))))))) ≡ (RefusedAt 14 17 1)
unfolding computing
random_801 = refl

random_802 : body_verdict (record { predicates = ((record { name = name_ov; args = ([]); cases = ((record { opened = (sort.Val ∷ []); facts = ([]); locals = []; items = ((Data (Number (pos 64)) (Global name_x) (Of2 binary.Cons (Var 0 sort.Val) Nil)) ∷ []) }) ∷ []) }) ∷ []); specs = ((record { is_void = false; name = name_main; params = ([]); vars = []; pre = (record { opened = []; facts = ([]); locals = []; items = ((Data (Number (pos 64)) (Global name_arr) (Of2 binary.Cons (Of unary.Vi (Number (pos 1))) (Of2 binary.Cons (Of unary.Vi (Number (pos 2))) (Of2 binary.Cons (Of unary.Vi (Number (pos 0))) (Of2 binary.Cons (Of unary.Vi (Number (pos 0))) Nil))))) ∷ (Data (Number (pos 64)) (Global name_x) (Of2 binary.Cons (Of unary.Vi (Number (pos 3))) Nil)) ∷ (Data (Number (pos 64)) (Global name_g) (Of2 binary.Cons (Of unary.Vi (Number (pos 3))) Nil)) ∷ (Data (Number (pos 64)) (Global name_l) (Of2 binary.Cons (Of unary.Vi (Number (pos 0))) Nil)) ∷ []) }); post = (record { opened = (sort.List ∷ []); facts = ((Rel relation.Eq (Var 0 sort.Val) (Of unary.Vi (Number (pos 0)))) ∷ []); locals = []; items = ((Data (Number (pos 64)) (Global name_arr) (Of2 binary.Cons (Of unary.Vi (Number (pos 4))) (Of2 binary.Cons (Of unary.Vi (Number (pos 2))) (Of2 binary.Cons (Of unary.Vi (Number (pos 0))) (Of2 binary.Cons (Of unary.Vi (Number (pos 0))) Nil))))) ∷ (Data (Number (pos 64)) (Global name_g) (Of2 binary.Cons (Of unary.Vi (Number (pos 3))) Nil)) ∷ (Data (Number (pos 64)) (Global name_x) (Var 1 sort.List)) ∷ (Data (Number (pos 64)) (Global name_l) (Of2 binary.Cons Undef Nil)) ∷ []) }) }) ∷ []) }) (record { is_void = false; name = name_main; params = ([]); vars = []; pre = (record { opened = []; facts = ([]); locals = []; items = ((Data (Number (pos 64)) (Global name_arr) (Of2 binary.Cons (Of unary.Vi (Number (pos 1))) (Of2 binary.Cons (Of unary.Vi (Number (pos 2))) (Of2 binary.Cons (Of unary.Vi (Number (pos 0))) (Of2 binary.Cons (Of unary.Vi (Number (pos 0))) Nil))))) ∷ (Data (Number (pos 64)) (Global name_x) (Of2 binary.Cons (Of unary.Vi (Number (pos 3))) Nil)) ∷ (Data (Number (pos 64)) (Global name_g) (Of2 binary.Cons (Of unary.Vi (Number (pos 3))) Nil)) ∷ (Data (Number (pos 64)) (Global name_l) (Of2 binary.Cons (Of unary.Vi (Number (pos 0))) Nil)) ∷ []) }); post = (record { opened = (sort.List ∷ []); facts = ((Rel relation.Eq (Var 0 sort.Val) (Of unary.Vi (Number (pos 0)))) ∷ []); locals = []; items = ((Data (Number (pos 64)) (Global name_arr) (Of2 binary.Cons (Of unary.Vi (Number (pos 4))) (Of2 binary.Cons (Of unary.Vi (Number (pos 2))) (Of2 binary.Cons (Of unary.Vi (Number (pos 0))) (Of2 binary.Cons (Of unary.Vi (Number (pos 0))) Nil))))) ∷ (Data (Number (pos 64)) (Global name_g) (Of2 binary.Cons (Of unary.Vi (Number (pos 3))) Nil)) ∷ (Data (Number (pos 64)) (Global name_x) (Var 1 sort.List)) ∷ (Data (Number (pos 64)) (Global name_l) (Of2 binary.Cons Undef Nil)) ∷ []) }) }) (record { temps = (name_s ∷ name_t ∷ name_i ∷ name_x1 ∷ name_d0 ∷ name_p1 ∷ name_q1 ∷ []); body = (c.Then (c.Set 0 (c.Const 0)) (c.Then (c.Set 1 (c.Const 1)) (c.Then (c.OnLock lock.Make (c.Address (root.Global name_l 1) c.Here)) (c.Then (c.OnLock lock.Release (c.Address (root.Global name_l 1) c.Here)) (c.Then (c.Set 3 (c.Binary two.Mul kind.Unsigned (c.Const 3) (c.Const 5))) (c.Then (c.Store (root.Global name_arr 4) (c.Index kind.Signed (c.Const 0) c.Here) (c.Binary two.Add kind.Signed (c.Const 1) (c.Const 3))) (c.Then (c.OnLock lock.Acquire (c.Address (root.Global name_l 1) c.Here)) (c.Then (c.OnLock lock.Free (c.Address (root.Global name_l 1) c.Here)) (c.Then (c.Return (Some (c.Const 0))) c.End))))))))) }) (s.Then 1 (s.Set ([]) ([])) s.NoBlock (s.Then 2 (s.Set ([]) ([])) s.NoBlock (s.Then 3 (s.MakeLock 3 (record { name = name_ov; args = ([]) }) ([]) ([])) s.NoBlock (s.Then 4 (s.Fold name_ov 0 ([]) ((Of unary.Vi (Number (pos 3))) ∷ []) ([])) s.NoBlock (s.Then 5 (s.Release 3 4 ([])) s.NoBlock (s.Then 6 (s.Set ([]) ([])) s.NoBlock (s.Then 7 (s.Store 0 ([]) ([])) s.NoBlock (s.Then 8 (s.Acquire 2 ([])) s.NoBlock (s.Then 9 (s.Unfold 4 ((name_k1 ∷ []) ∷ [])) (s.WithBlock (s.Then 10 (s.FreeLock 2 3 ([]) ([])) s.NoBlock (s.Then 11 (s.Return ((Of2 binary.Cons (Named name_k1) Nil) ∷ []) ([]) ([])) s.NoBlock s.End)) s.NoBlock) s.End))))))))) ≡ Accepted
unfolding computing
random_802 = refl

random_803 : body_verdict (record { predicates = ((record { name = name_ov; args = ([]); cases = ((record { opened = (sort.Val ∷ []); facts = ([]); locals = []; items = ((Data (Number (pos 64)) (Global name_x) (Of2 binary.Cons (Var 0 sort.Val) Nil)) ∷ []) }) ∷ []) }) ∷ []); specs = ((record { is_void = false; name = name_main; params = ([]); vars = []; pre = (record { opened = []; facts = ([]); locals = []; items = ((Data (Number (pos 64)) (Global name_arr) (Of2 binary.Cons (Of unary.Vi (Number (pos 1))) (Of2 binary.Cons (Of unary.Vi (Number (pos 2))) (Of2 binary.Cons (Of unary.Vi (Number (pos 0))) (Of2 binary.Cons (Of unary.Vi (Number (pos 0))) Nil))))) ∷ (Data (Number (pos 64)) (Global name_x) (Of2 binary.Cons (Of unary.Vi (Number (pos 3))) Nil)) ∷ (Data (Number (pos 64)) (Global name_g) (Of2 binary.Cons (Of unary.Vi (Number (pos 3))) Nil)) ∷ (Data (Number (pos 64)) (Global name_l) (Of2 binary.Cons (Of unary.Vi (Number (pos 0))) Nil)) ∷ []) }); post = (record { opened = (sort.List ∷ []); facts = ((Rel relation.Eq (Var 0 sort.Val) (Of unary.Vi (Number (pos 0)))) ∷ []); locals = []; items = ((Data (Number (pos 64)) (Global name_arr) (Of2 binary.Cons (Of unary.Vi (Number (pos 4))) (Of2 binary.Cons (Of unary.Vi (Number (pos 2))) (Of2 binary.Cons (Of unary.Vi (Number (pos 0))) (Of2 binary.Cons (Of unary.Vi (Number (pos 0))) Nil))))) ∷ (Data (Number (pos 64)) (Global name_g) (Of2 binary.Cons (Of unary.Vi (Number (pos 3))) Nil)) ∷ (Data (Number (pos 64)) (Global name_x) (Var 1 sort.List)) ∷ (Data (Number (pos 64)) (Global name_l) (Of2 binary.Cons Undef Nil)) ∷ []) }) }) ∷ []) }) (record { is_void = false; name = name_main; params = ([]); vars = []; pre = (record { opened = []; facts = ([]); locals = []; items = ((Data (Number (pos 64)) (Global name_arr) (Of2 binary.Cons (Of unary.Vi (Number (pos 1))) (Of2 binary.Cons (Of unary.Vi (Number (pos 2))) (Of2 binary.Cons (Of unary.Vi (Number (pos 0))) (Of2 binary.Cons (Of unary.Vi (Number (pos 0))) Nil))))) ∷ (Data (Number (pos 64)) (Global name_x) (Of2 binary.Cons (Of unary.Vi (Number (pos 3))) Nil)) ∷ (Data (Number (pos 64)) (Global name_g) (Of2 binary.Cons (Of unary.Vi (Number (pos 3))) Nil)) ∷ (Data (Number (pos 64)) (Global name_l) (Of2 binary.Cons (Of unary.Vi (Number (pos 0))) Nil)) ∷ []) }); post = (record { opened = (sort.List ∷ []); facts = ((Rel relation.Eq (Var 0 sort.Val) (Of unary.Vi (Number (pos 0)))) ∷ []); locals = []; items = ((Data (Number (pos 64)) (Global name_arr) (Of2 binary.Cons (Of unary.Vi (Number (pos 4))) (Of2 binary.Cons (Of unary.Vi (Number (pos 2))) (Of2 binary.Cons (Of unary.Vi (Number (pos 0))) (Of2 binary.Cons (Of unary.Vi (Number (pos 0))) Nil))))) ∷ (Data (Number (pos 64)) (Global name_g) (Of2 binary.Cons (Of unary.Vi (Number (pos 3))) Nil)) ∷ (Data (Number (pos 64)) (Global name_x) (Var 1 sort.List)) ∷ (Data (Number (pos 64)) (Global name_l) (Of2 binary.Cons Undef Nil)) ∷ []) }) }) (record { temps = (name_s ∷ name_t ∷ name_i ∷ name_x1 ∷ name_d0 ∷ name_p1 ∷ name_q1 ∷ []); body = (c.Then (c.Set 0 (c.Const 0)) (c.Then (c.Set 1 (c.Const 1)) (c.Then (c.OnLock lock.Make (c.Address (root.Global name_l 1) c.Here)) (c.Then (c.OnLock lock.Release (c.Address (root.Global name_l 1) c.Here)) (c.Then (c.Set 3 (c.Binary two.Mul kind.Unsigned (c.Const 3) (c.Const 5))) (c.Then (c.Store (root.Global name_arr 4) (c.Index kind.Signed (c.Const 0) c.Here) (c.Binary two.Add kind.Signed (c.Const 1) (c.Const 3))) (c.Then (c.OnLock lock.Acquire (c.Address (root.Global name_l 1) c.Here)) (c.Then (c.OnLock lock.Free (c.Address (root.Global name_l 1) c.Here)) (c.Then (c.Return (Some (c.Const 0))) c.End))))))))) }) (s.Then 1 (s.Set ([]) ([])) s.NoBlock (s.Then 2 (s.MakeLock 3 (record { name = name_ov; args = ([]) }) ([]) ([])) s.NoBlock (s.Then 3 (s.Fold name_ov 0 ([]) ((Of unary.Vi (Number (pos 3))) ∷ []) ([])) s.NoBlock (s.Then 4 (s.Release 3 4 ([])) s.NoBlock (s.Then 5 (s.Set ([]) ([])) s.NoBlock (s.Then 6 (s.Set ([]) ([])) s.NoBlock (s.Then 7 (s.Store 0 ([]) ([])) s.NoBlock (s.Then 8 (s.Acquire 2 ([])) s.NoBlock (s.Then 9 (s.Unfold 4 ((name_k1 ∷ []) ∷ [])) (s.WithBlock (s.Then 10 (s.FreeLock 2 3 ([]) ([])) s.NoBlock (s.Then 11 (s.Return ((Of2 binary.Cons (Named name_k1) Nil) ∷ []) ([]) ([])) s.NoBlock s.End)) s.NoBlock) s.End))))))))) ≡ (RefusedAt 2 16 1)
unfolding computing
random_803 = refl

random_804 : body_verdict (record { predicates = ((record { name = name_ov; args = ([]); cases = ((record { opened = (sort.Val ∷ []); facts = ([]); locals = []; items = ((Data (Number (pos 64)) (Global name_x) (Of2 binary.Cons (Var 0 sort.Val) Nil)) ∷ []) }) ∷ []) }) ∷ []); specs = ((record { is_void = false; name = name_main; params = ([]); vars = []; pre = (record { opened = []; facts = ([]); locals = []; items = ((Data (Number (pos 64)) (Global name_arr) (Of2 binary.Cons (Of unary.Vi (Number (pos 1))) (Of2 binary.Cons (Of unary.Vi (Number (pos 2))) (Of2 binary.Cons (Of unary.Vi (Number (pos 0))) (Of2 binary.Cons (Of unary.Vi (Number (pos 0))) Nil))))) ∷ (Data (Number (pos 64)) (Global name_x) (Of2 binary.Cons (Of unary.Vi (Number (pos 3))) Nil)) ∷ (Data (Number (pos 64)) (Global name_g) (Of2 binary.Cons (Of unary.Vi (Number (pos 3))) Nil)) ∷ (Data (Number (pos 64)) (Global name_l) (Of2 binary.Cons (Of unary.Vi (Number (pos 0))) Nil)) ∷ []) }); post = (record { opened = (sort.List ∷ []); facts = ((Rel relation.Eq (Var 0 sort.Val) (Of unary.Vi (Number (pos 0)))) ∷ []); locals = []; items = ((Data (Number (pos 64)) (Global name_arr) (Of2 binary.Cons (Of unary.Vi (Number (pos 4))) (Of2 binary.Cons (Of unary.Vi (Number (pos 2))) (Of2 binary.Cons (Of unary.Vi (Number (pos 0))) (Of2 binary.Cons (Of unary.Vi (Number (pos 0))) Nil))))) ∷ (Data (Number (pos 64)) (Global name_g) (Of2 binary.Cons (Of unary.Vi (Number (pos 3))) Nil)) ∷ (Data (Number (pos 64)) (Global name_x) (Var 1 sort.List)) ∷ (Data (Number (pos 64)) (Global name_l) (Of2 binary.Cons Undef Nil)) ∷ []) }) }) ∷ []) }) (record { is_void = false; name = name_main; params = ([]); vars = []; pre = (record { opened = []; facts = ([]); locals = []; items = ((Data (Number (pos 64)) (Global name_arr) (Of2 binary.Cons (Of unary.Vi (Number (pos 1))) (Of2 binary.Cons (Of unary.Vi (Number (pos 2))) (Of2 binary.Cons (Of unary.Vi (Number (pos 0))) (Of2 binary.Cons (Of unary.Vi (Number (pos 0))) Nil))))) ∷ (Data (Number (pos 64)) (Global name_x) (Of2 binary.Cons (Of unary.Vi (Number (pos 3))) Nil)) ∷ (Data (Number (pos 64)) (Global name_g) (Of2 binary.Cons (Of unary.Vi (Number (pos 3))) Nil)) ∷ (Data (Number (pos 64)) (Global name_l) (Of2 binary.Cons (Of unary.Vi (Number (pos 0))) Nil)) ∷ []) }); post = (record { opened = (sort.List ∷ []); facts = ((Rel relation.Eq (Var 0 sort.Val) (Of unary.Vi (Number (pos 0)))) ∷ []); locals = []; items = ((Data (Number (pos 64)) (Global name_arr) (Of2 binary.Cons (Of unary.Vi (Number (pos 4))) (Of2 binary.Cons (Of unary.Vi (Number (pos 2))) (Of2 binary.Cons (Of unary.Vi (Number (pos 0))) (Of2 binary.Cons (Of unary.Vi (Number (pos 0))) Nil))))) ∷ (Data (Number (pos 64)) (Global name_g) (Of2 binary.Cons (Of unary.Vi (Number (pos 3))) Nil)) ∷ (Data (Number (pos 64)) (Global name_x) (Var 1 sort.List)) ∷ (Data (Number (pos 64)) (Global name_l) (Of2 binary.Cons Undef Nil)) ∷ []) }) }) (record { temps = (name_s ∷ name_t ∷ name_i ∷ name_x1 ∷ name_d0 ∷ name_p1 ∷ name_q1 ∷ []); body = (c.Then (c.Set 0 (c.Const 0)) (c.Then (c.Set 1 (c.Const 1)) (c.Then (c.OnLock lock.Make (c.Address (root.Global name_l 1) c.Here)) (c.Then (c.OnLock lock.Release (c.Address (root.Global name_l 1) c.Here)) (c.Then (c.Set 3 (c.Binary two.Mul kind.Unsigned (c.Const 3) (c.Const 5))) (c.Then (c.Store (root.Global name_arr 4) (c.Index kind.Signed (c.Const 0) c.Here) (c.Binary two.Add kind.Signed (c.Const 1) (c.Const 3))) (c.Then (c.OnLock lock.Acquire (c.Address (root.Global name_l 1) c.Here)) (c.Then (c.OnLock lock.Free (c.Address (root.Global name_l 1) c.Here)) (c.Then (c.Return (Some (c.Const 0))) c.End))))))))) }) (s.Then 1 (s.Set ([]) ([])) s.NoBlock (s.Then 2 (s.Release 0 1 ([])) s.NoBlock (s.Then 3 (s.MakeLock 3 (record { name = name_ov; args = ([]) }) ([]) ([])) s.NoBlock (s.Then 4 (s.Fold name_ov 0 ([]) ((Of unary.Vi (Number (pos 3))) ∷ []) ([])) s.NoBlock (s.Then 5 (s.Release 3 4 ([])) s.NoBlock (s.Then 6 (s.Set ([]) ([])) s.NoBlock (s.Then 7 (s.Store 0 ([]) ([])) s.NoBlock (s.Then 8 (s.Acquire 2 ([])) s.NoBlock (s.Then 9 (s.Unfold 4 ((name_k1 ∷ []) ∷ [])) (s.WithBlock (s.Then 10 (s.FreeLock 2 3 ([]) ([])) s.NoBlock (s.Then 11 (s.Return ((Of2 binary.Cons (Named name_k1) Nil) ∷ []) ([]) ([])) s.NoBlock s.End)) s.NoBlock) s.End))))))))) ≡ (RefusedAt 2 18 1)
unfolding computing
random_804 = refl

random_805 : body_verdict (record { predicates = ((record { name = name_ov; args = ([]); cases = ((record { opened = (sort.Val ∷ []); facts = ([]); locals = []; items = ((Data (Number (pos 64)) (Global name_x) (Of2 binary.Cons (Var 0 sort.Val) Nil)) ∷ []) }) ∷ []) }) ∷ []); specs = ((record { is_void = false; name = name_main; params = ([]); vars = []; pre = (record { opened = []; facts = ([]); locals = []; items = ((Data (Number (pos 64)) (Global name_arr) (Of2 binary.Cons (Of unary.Vi (Number (pos 1))) (Of2 binary.Cons (Of unary.Vi (Number (pos 2))) (Of2 binary.Cons (Of unary.Vi (Number (pos 0))) (Of2 binary.Cons (Of unary.Vi (Number (pos 0))) Nil))))) ∷ (Data (Number (pos 64)) (Global name_x) (Of2 binary.Cons (Of unary.Vi (Number (pos 3))) Nil)) ∷ (Data (Number (pos 64)) (Global name_g) (Of2 binary.Cons (Of unary.Vi (Number (pos 3))) Nil)) ∷ (Data (Number (pos 64)) (Global name_l) (Of2 binary.Cons (Of unary.Vi (Number (pos 0))) Nil)) ∷ []) }); post = (record { opened = (sort.List ∷ []); facts = ((Rel relation.Eq (Var 0 sort.Val) (Of unary.Vi (Number (pos 0)))) ∷ []); locals = []; items = ((Data (Number (pos 64)) (Global name_arr) (Of2 binary.Cons (Of unary.Vi (Number (pos 4))) (Of2 binary.Cons (Of unary.Vi (Number (pos 2))) (Of2 binary.Cons (Of unary.Vi (Number (pos 0))) (Of2 binary.Cons (Of unary.Vi (Number (pos 0))) Nil))))) ∷ (Data (Number (pos 64)) (Global name_g) (Of2 binary.Cons (Of unary.Vi (Number (pos 3))) Nil)) ∷ (Data (Number (pos 64)) (Global name_x) (Var 1 sort.List)) ∷ (Data (Number (pos 64)) (Global name_l) (Of2 binary.Cons Undef Nil)) ∷ []) }) }) ∷ []) }) (record { is_void = false; name = name_main; params = ([]); vars = []; pre = (record { opened = []; facts = ([]); locals = []; items = ((Data (Number (pos 64)) (Global name_arr) (Of2 binary.Cons (Of unary.Vi (Number (pos 1))) (Of2 binary.Cons (Of unary.Vi (Number (pos 2))) (Of2 binary.Cons (Of unary.Vi (Number (pos 0))) (Of2 binary.Cons (Of unary.Vi (Number (pos 0))) Nil))))) ∷ (Data (Number (pos 64)) (Global name_x) (Of2 binary.Cons (Of unary.Vi (Number (pos 3))) Nil)) ∷ (Data (Number (pos 64)) (Global name_g) (Of2 binary.Cons (Of unary.Vi (Number (pos 3))) Nil)) ∷ (Data (Number (pos 64)) (Global name_l) (Of2 binary.Cons (Of unary.Vi (Number (pos 0))) Nil)) ∷ []) }); post = (record { opened = (sort.List ∷ []); facts = ((Rel relation.Eq (Var 0 sort.Val) (Of unary.Vi (Number (pos 0)))) ∷ []); locals = []; items = ((Data (Number (pos 64)) (Global name_arr) (Of2 binary.Cons (Of unary.Vi (Number (pos 4))) (Of2 binary.Cons (Of unary.Vi (Number (pos 2))) (Of2 binary.Cons (Of unary.Vi (Number (pos 0))) (Of2 binary.Cons (Of unary.Vi (Number (pos 0))) Nil))))) ∷ (Data (Number (pos 64)) (Global name_g) (Of2 binary.Cons (Of unary.Vi (Number (pos 3))) Nil)) ∷ (Data (Number (pos 64)) (Global name_x) (Var 1 sort.List)) ∷ (Data (Number (pos 64)) (Global name_l) (Of2 binary.Cons Undef Nil)) ∷ []) }) }) (record { temps = (name_s ∷ name_t ∷ name_i ∷ name_x1 ∷ name_d0 ∷ name_p1 ∷ name_q1 ∷ []); body = (c.Then (c.Set 0 (c.Const 0)) (c.Then (c.Set 1 (c.Const 1)) (c.Then (c.OnLock lock.Make (c.Address (root.Global name_l 1) c.Here)) (c.Then (c.OnLock lock.Release (c.Address (root.Global name_l 1) c.Here)) (c.Then (c.Set 3 (c.Binary two.Mul kind.Unsigned (c.Const 3) (c.Const 5))) (c.Then (c.Store (root.Global name_arr 4) (c.Index kind.Signed (c.Const 0) c.Here) (c.Binary two.Add kind.Signed (c.Const 1) (c.Const 3))) (c.Then (c.OnLock lock.Acquire (c.Address (root.Global name_l 1) c.Here)) (c.Then (c.OnLock lock.Free (c.Address (root.Global name_l 1) c.Here)) (c.Then (c.Return (Some (c.Const 0))) c.End))))))))) }) (s.Then 1 (s.Set ([]) ([])) s.NoBlock (s.Then 2 (s.Set ([]) ([])) s.NoBlock (s.Then 3 (s.MakeLock 3 (record { name = name_ov; args = ([]) }) ([]) ([])) s.NoBlock (s.Then 4 (s.Fold name_ov 0 ([]) ((Of unary.Vi (Number (pos 3))) ∷ []) ([])) s.NoBlock (s.Then 5 (s.Release 3 4 ([])) s.NoBlock (s.Then 6 (s.Set ([]) ([])) s.NoBlock (s.Then 7 (s.Store 0 ([]) ([])) s.NoBlock (s.Then 8 (s.Acquire 64 ([])) s.NoBlock (s.Then 9 (s.Unfold 4 ((name_k1 ∷ []) ∷ [])) (s.WithBlock (s.Then 10 (s.FreeLock 2 3 ([]) ([])) s.NoBlock (s.Then 11 (s.Return ((Of2 binary.Cons (Named name_k1) Nil) ∷ []) ([]) ([])) s.NoBlock s.End)) s.NoBlock) s.End))))))))) ≡ (RefusedAt 8 17 1)
unfolding computing
random_805 = refl

random_806 : body_verdict (record { predicates = ((record { name = name_ov; args = ([]); cases = ((record { opened = (sort.Val ∷ []); facts = ([]); locals = []; items = ((Data (Number (pos 64)) (Global name_x) (Of2 binary.Cons (Var 0 sort.Val) Nil)) ∷ []) }) ∷ []) }) ∷ []); specs = ((record { is_void = false; name = name_main; params = ([]); vars = []; pre = (record { opened = []; facts = ([]); locals = []; items = ((Data (Number (pos 65)) (Global name_arr) (Of2 binary.Cons (Of unary.Vi (Number (pos 1))) (Of2 binary.Cons (Of unary.Vi (Number (pos 2))) (Of2 binary.Cons (Of unary.Vi (Number (pos 0))) (Of2 binary.Cons (Of unary.Vi (Number (pos 0))) Nil))))) ∷ (Data (Number (pos 64)) (Global name_x) (Of2 binary.Cons (Of unary.Vi (Number (pos 3))) Nil)) ∷ (Data (Number (pos 64)) (Global name_g) (Of2 binary.Cons (Of unary.Vi (Number (pos 3))) Nil)) ∷ (Data (Number (pos 64)) (Global name_l) (Of2 binary.Cons (Of unary.Vi (Number (pos 0))) Nil)) ∷ []) }); post = (record { opened = (sort.List ∷ []); facts = ((Rel relation.Eq (Var 0 sort.Val) (Of unary.Vi (Number (pos 0)))) ∷ []); locals = []; items = ((Data (Number (pos 64)) (Global name_arr) (Of2 binary.Cons (Of unary.Vi (Number (pos 4))) (Of2 binary.Cons (Of unary.Vi (Number (pos 2))) (Of2 binary.Cons (Of unary.Vi (Number (pos 0))) (Of2 binary.Cons (Of unary.Vi (Number (pos 0))) Nil))))) ∷ (Data (Number (pos 64)) (Global name_g) (Of2 binary.Cons (Of unary.Vi (Number (pos 3))) Nil)) ∷ (Data (Number (pos 64)) (Global name_x) (Var 1 sort.List)) ∷ (Data (Number (pos 64)) (Global name_l) (Of2 binary.Cons Undef Nil)) ∷ []) }) }) ∷ []) }) (record { is_void = false; name = name_main; params = ([]); vars = []; pre = (record { opened = []; facts = ([]); locals = []; items = ((Data (Number (pos 65)) (Global name_arr) (Of2 binary.Cons (Of unary.Vi (Number (pos 1))) (Of2 binary.Cons (Of unary.Vi (Number (pos 2))) (Of2 binary.Cons (Of unary.Vi (Number (pos 0))) (Of2 binary.Cons (Of unary.Vi (Number (pos 0))) Nil))))) ∷ (Data (Number (pos 64)) (Global name_x) (Of2 binary.Cons (Of unary.Vi (Number (pos 3))) Nil)) ∷ (Data (Number (pos 64)) (Global name_g) (Of2 binary.Cons (Of unary.Vi (Number (pos 3))) Nil)) ∷ (Data (Number (pos 64)) (Global name_l) (Of2 binary.Cons (Of unary.Vi (Number (pos 0))) Nil)) ∷ []) }); post = (record { opened = (sort.List ∷ []); facts = ((Rel relation.Eq (Var 0 sort.Val) (Of unary.Vi (Number (pos 0)))) ∷ []); locals = []; items = ((Data (Number (pos 64)) (Global name_arr) (Of2 binary.Cons (Of unary.Vi (Number (pos 4))) (Of2 binary.Cons (Of unary.Vi (Number (pos 2))) (Of2 binary.Cons (Of unary.Vi (Number (pos 0))) (Of2 binary.Cons (Of unary.Vi (Number (pos 0))) Nil))))) ∷ (Data (Number (pos 64)) (Global name_g) (Of2 binary.Cons (Of unary.Vi (Number (pos 3))) Nil)) ∷ (Data (Number (pos 64)) (Global name_x) (Var 1 sort.List)) ∷ (Data (Number (pos 64)) (Global name_l) (Of2 binary.Cons Undef Nil)) ∷ []) }) }) (record { temps = (name_s ∷ name_t ∷ name_i ∷ name_x1 ∷ name_d0 ∷ name_p1 ∷ name_q1 ∷ []); body = (c.Then (c.Set 0 (c.Const 0)) (c.Then (c.Set 1 (c.Const 1)) (c.Then (c.OnLock lock.Make (c.Address (root.Global name_l 1) c.Here)) (c.Then (c.OnLock lock.Release (c.Address (root.Global name_l 1) c.Here)) (c.Then (c.Set 3 (c.Binary two.Mul kind.Unsigned (c.Const 3) (c.Const 5))) (c.Then (c.Store (root.Global name_arr 4) (c.Index kind.Signed (c.Const 0) c.Here) (c.Binary two.Add kind.Signed (c.Const 1) (c.Const 3))) (c.Then (c.OnLock lock.Acquire (c.Address (root.Global name_l 1) c.Here)) (c.Then (c.OnLock lock.Free (c.Address (root.Global name_l 1) c.Here)) (c.Then (c.Return (Some (c.Const 0))) c.End))))))))) }) (s.Then 1 (s.Set ([]) ([])) s.NoBlock (s.Then 2 (s.Set ([]) ([])) s.NoBlock (s.Then 3 (s.MakeLock 3 (record { name = name_ov; args = ([]) }) ([]) ([])) s.NoBlock (s.Then 4 (s.Fold name_ov 0 ([]) ((Of unary.Vi (Number (pos 3))) ∷ []) ([])) s.NoBlock (s.Then 5 (s.Release 3 4 ([])) s.NoBlock (s.Then 6 (s.Set ([]) ([])) s.NoBlock (s.Then 7 (s.Store 0 ([]) ([])) s.NoBlock (s.Then 8 (s.Acquire 2 ([])) s.NoBlock (s.Then 9 (s.Unfold 4 ((name_k1 ∷ []) ∷ [])) (s.WithBlock (s.Then 10 (s.FreeLock 2 3 ([]) ([])) s.NoBlock (s.Then 11 (s.Return ((Of2 binary.Cons (Named name_k1) Nil) ∷ []) ([]) ([])) s.NoBlock s.End)) s.NoBlock) s.End))))))))) ≡ (RefusedAt 11 9 5)
unfolding computing
random_806 = refl

random_807 : body_verdict (record { predicates = ((record { name = name_ov; args = ([]); cases = ((record { opened = (sort.Val ∷ []); facts = ([]); locals = []; items = ((Data (Number (pos 64)) (Global name_x) (Of2 binary.Cons (Var 0 sort.Val) Nil)) ∷ []) }) ∷ []) }) ∷ []); specs = ((record { is_void = false; name = name_main; params = ([]); vars = []; pre = (record { opened = []; facts = ([]); locals = []; items = ((Data (Number (pos 64)) (Global name_arr) (Of2 binary.Cons (Of unary.Vi (Number (pos 1))) (Of2 binary.Cons (Of unary.Vi (Number (pos 2))) (Of2 binary.Cons (Of unary.Vi (Number (pos 0))) (Of2 binary.Cons (Of unary.Vi (Number (pos 0))) Nil))))) ∷ (Data (Number (pos 64)) (Global name_x) (Of2 binary.Cons (Of unary.Vi (Number (pos 3))) Nil)) ∷ (Data (Number (pos 64)) (Global name_g) (Of2 binary.Cons (Of unary.Vi (Number (pos 3))) Nil)) ∷ (Data (Number (pos 64)) (Global name_l) (Of2 binary.Cons (Of unary.Vi (Number (pos 0))) Nil)) ∷ []) }); post = (record { opened = (sort.List ∷ []); facts = ((Rel relation.Eq (Var 0 sort.Val) (Of unary.Vi (Number (pos 0)))) ∷ []); locals = []; items = ((Data (Number (pos 64)) (Global name_arr) (Of2 binary.Cons (Of unary.Vi (Number (pos 4))) (Of2 binary.Cons (Of unary.Vi (Number (pos 2))) (Of2 binary.Cons (Of unary.Vi (Number (pos 0))) (Of2 binary.Cons (Of unary.Vi (Number (pos 0))) Nil))))) ∷ (Data (Number (pos 64)) (Global name_g) (Of2 binary.Cons (Of unary.Vi (Number (pos 3))) Nil)) ∷ (Data (Number (pos 64)) (Global name_x) (Var 1 sort.List)) ∷ (Data (Number (pos 64)) (Global name_l) (Of2 binary.Cons Undef Nil)) ∷ []) }) }) ∷ []) }) (record { is_void = false; name = name_main; params = ([]); vars = []; pre = (record { opened = []; facts = ([]); locals = []; items = ((Data (Number (pos 64)) (Global name_arr) (Of2 binary.Cons (Of unary.Vi (Number (pos 1))) (Of2 binary.Cons (Of unary.Vi (Number (pos 2))) (Of2 binary.Cons (Of unary.Vi (Number (pos 0))) (Of2 binary.Cons (Of unary.Vi (Number (pos 0))) Nil))))) ∷ (Data (Number (pos 64)) (Global name_x) (Of2 binary.Cons (Of unary.Vi (Number (pos 3))) Nil)) ∷ (Data (Number (pos 64)) (Global name_g) (Of2 binary.Cons (Of unary.Vi (Number (pos 3))) Nil)) ∷ (Data (Number (pos 64)) (Global name_l) (Of2 binary.Cons (Of unary.Vi (Number (pos 0))) Nil)) ∷ []) }); post = (record { opened = (sort.List ∷ []); facts = ((Rel relation.Eq (Var 0 sort.Val) (Of unary.Vi (Number (pos 0)))) ∷ []); locals = []; items = ((Data (Number (pos 64)) (Global name_arr) (Of2 binary.Cons (Of unary.Vi (Number (pos 4))) (Of2 binary.Cons (Of unary.Vi (Number (pos 2))) (Of2 binary.Cons (Of unary.Vi (Number (pos 0))) (Of2 binary.Cons (Of unary.Vi (Number (pos 0))) Nil))))) ∷ (Data (Number (pos 64)) (Global name_g) (Of2 binary.Cons (Of unary.Vi (Number (pos 3))) Nil)) ∷ (Data (Number (pos 64)) (Global name_x) (Var 1 sort.List)) ∷ (Data (Number (pos 64)) (Global name_l) (Of2 binary.Cons Undef Nil)) ∷ []) }) }) (record { temps = (name_s ∷ name_t ∷ name_i ∷ name_x1 ∷ name_d0 ∷ name_p1 ∷ name_q1 ∷ []); body = (c.Then (c.Set 0 (c.Const 0)) (c.Then (c.Set 1 (c.Const 1)) (c.Then (c.OnLock lock.Make (c.Address (root.Global name_l 1) c.Here)) (c.Then (c.OnLock lock.Release (c.Address (root.Global name_l 1) c.Here)) (c.Then (c.Set 3 (c.Binary two.Mul kind.Unsigned (c.Const 3) (c.Const 5))) (c.Then (c.Store (root.Global name_arr 4) (c.Index kind.Signed (c.Const 0) c.Here) (c.Binary two.Add kind.Signed (c.Const 1) (c.Const 3))) (c.Then (c.OnLock lock.Acquire (c.Address (root.Global name_l 1) c.Here)) (c.Then (c.OnLock lock.Free (c.Address (root.Global name_l 1) c.Here)) (c.Then (c.Return (Some (c.Const 0))) c.End))))))))) }) (s.Then 1 (s.Set ([]) ([])) s.NoBlock (s.Then 2 (s.MakeLock 3 (record { name = name_ov; args = ([]) }) ([]) ([])) s.NoBlock (s.Then 3 (s.Fold name_ov 0 ([]) ((Of unary.Vi (Number (pos 3))) ∷ []) ([])) s.NoBlock (s.Then 4 (s.Release 3 4 ([])) s.NoBlock (s.Then 5 (s.Set ([]) ([])) s.NoBlock (s.Then 6 (s.Store 0 ([]) ([])) s.NoBlock (s.Then 7 (s.Acquire 2 ([])) s.NoBlock (s.Then 8 (s.Unfold 4 ((name_k1 ∷ []) ∷ [])) (s.WithBlock (s.Then 9 (s.FreeLock 2 3 ([]) ([])) s.NoBlock (s.Then 10 (s.Return ((Of2 binary.Cons (Named name_k1) Nil) ∷ []) ([]) ([])) s.NoBlock s.End)) s.NoBlock) s.End)))))))) ≡ (RefusedAt 2 16 1)
unfolding computing
random_807 = refl

random_808 : body_verdict (record { predicates = ((record { name = name_ov; args = ([]); cases = ((record { opened = (sort.Val ∷ []); facts = ([]); locals = []; items = ((Data (Number (pos 64)) (Global name_x) (Of2 binary.Cons (Var 0 sort.Val) Nil)) ∷ []) }) ∷ []) }) ∷ []); specs = ((record { is_void = false; name = name_main; params = ([]); vars = []; pre = (record { opened = []; facts = ([]); locals = []; items = ((Data (Number (pos 64)) (Global name_arr) (Of2 binary.Cons (Of unary.Vi (Number (pos 1))) (Of2 binary.Cons (Of unary.Vi (Number (pos 2))) (Of2 binary.Cons (Of unary.Vi (Number (pos 0))) (Of2 binary.Cons (Of unary.Vi (Number (pos 0))) Nil))))) ∷ (Data (Number (pos 64)) (Global name_x) (Of2 binary.Cons (Of unary.Vi (Number (pos 3))) Nil)) ∷ (Data (Number (pos 64)) (Global name_g) (Of2 binary.Cons (Of unary.Vi (Number (pos 3))) Nil)) ∷ (Data (Number (pos 64)) (Global name_l) (Of2 binary.Cons (Of unary.Vi (Number (pos 0))) Nil)) ∷ []) }); post = (record { opened = (sort.List ∷ []); facts = ((Rel relation.Eq (Var 0 sort.Val) (Of unary.Vi (Number (pos 0)))) ∷ []); locals = []; items = ((Data (Number (pos 64)) (Global name_arr) (Of2 binary.Cons (Of unary.Vi (Number (pos 4))) (Of2 binary.Cons (Of unary.Vi (Number (pos 2))) (Of2 binary.Cons (Of unary.Vi (Number (pos 0))) (Of2 binary.Cons (Of unary.Vi (Number (pos 0))) Nil))))) ∷ (Data (Number (pos 64)) (Global name_g) (Of2 binary.Cons (Of unary.Vi (Number (pos 3))) Nil)) ∷ (Data (Number (pos 64)) (Global name_x) (Var 1 sort.List)) ∷ (Data (Number (pos 64)) (Global name_l) (Of2 binary.Cons Undef Nil)) ∷ []) }) }) ∷ []) }) (record { is_void = false; name = name_main; params = ([]); vars = []; pre = (record { opened = []; facts = ([]); locals = []; items = ((Data (Number (pos 64)) (Global name_arr) (Of2 binary.Cons (Of unary.Vi (Number (pos 1))) (Of2 binary.Cons (Of unary.Vi (Number (pos 2))) (Of2 binary.Cons (Of unary.Vi (Number (pos 0))) (Of2 binary.Cons (Of unary.Vi (Number (pos 0))) Nil))))) ∷ (Data (Number (pos 64)) (Global name_x) (Of2 binary.Cons (Of unary.Vi (Number (pos 3))) Nil)) ∷ (Data (Number (pos 64)) (Global name_g) (Of2 binary.Cons (Of unary.Vi (Number (pos 3))) Nil)) ∷ (Data (Number (pos 64)) (Global name_l) (Of2 binary.Cons (Of unary.Vi (Number (pos 0))) Nil)) ∷ []) }); post = (record { opened = (sort.List ∷ []); facts = ((Rel relation.Eq (Var 0 sort.Val) (Of unary.Vi (Number (pos 0)))) ∷ []); locals = []; items = ((Data (Number (pos 64)) (Global name_arr) (Of2 binary.Cons (Of unary.Vi (Number (pos 4))) (Of2 binary.Cons (Of unary.Vi (Number (pos 2))) (Of2 binary.Cons (Of unary.Vi (Number (pos 0))) (Of2 binary.Cons (Of unary.Vi (Number (pos 0))) Nil))))) ∷ (Data (Number (pos 64)) (Global name_g) (Of2 binary.Cons (Of unary.Vi (Number (pos 3))) Nil)) ∷ (Data (Number (pos 64)) (Global name_x) (Var 1 sort.List)) ∷ (Data (Number (pos 64)) (Global name_l) (Of2 binary.Cons Undef Nil)) ∷ []) }) }) (record { temps = (name_s ∷ name_t ∷ name_i ∷ name_x1 ∷ name_d0 ∷ name_p1 ∷ name_q1 ∷ []); body = (c.Then (c.Set 0 (c.Const 0)) (c.Then (c.Set 1 (c.Const 1)) (c.Then (c.OnLock lock.Make (c.Address (root.Global name_l 1) c.Here)) (c.Then (c.OnLock lock.Release (c.Address (root.Global name_l 1) c.Here)) (c.Then (c.Set 3 (c.Binary two.Mul kind.Unsigned (c.Const 3) (c.Const 5))) (c.Then (c.Store (root.Global name_arr 4) (c.Index kind.Signed (c.Const 0) c.Here) (c.Binary two.Add kind.Signed (c.Const 1) (c.Const 3))) (c.Then (c.OnLock lock.Acquire (c.Address (root.Global name_l 1) c.Here)) (c.Then (c.OnLock lock.Free (c.Address (root.Global name_l 1) c.Here)) (c.Then (c.Return (Some (c.Const 0))) c.End))))))))) }) (s.Then 1 (s.Set ([]) ([])) s.NoBlock (s.Then 2 (s.Set ([]) ([])) s.NoBlock (s.Then 3 (s.MakeLock 3 (record { name = name_ov; args = ([]) }) ([]) ([])) s.NoBlock (s.Then 4 (s.Fold name_ov 0 ([]) ((Of unary.Vi (Number (pos 3))) ∷ []) ([])) s.NoBlock (s.Then 5 (s.Release 3 2 ([])) s.NoBlock (s.Then 6 (s.Set ([]) ([])) s.NoBlock (s.Then 7 (s.Store 0 ([]) ([])) s.NoBlock (s.Then 8 (s.Acquire 2 ([])) s.NoBlock (s.Then 9 (s.Unfold 4 ((name_k1 ∷ []) ∷ [])) (s.WithBlock (s.Then 10 (s.FreeLock 2 3 ([]) ([])) s.NoBlock (s.Then 11 (s.Return ((Of2 binary.Cons (Named name_k1) Nil) ∷ []) ([]) ([])) s.NoBlock s.End)) s.NoBlock) s.End))))))))) ≡ (RefusedAt 5 18 1)
unfolding computing
random_808 = refl

random_809 : body_verdict (record { predicates = ((record { name = name_ov; args = ([]); cases = ((record { opened = (sort.Val ∷ []); facts = ([]); locals = []; items = ((Data (Number (pos 64)) (Global name_x) (Of2 binary.Cons (Var 0 sort.Val) Nil)) ∷ []) }) ∷ []) }) ∷ []); specs = ((record { is_void = false; name = name_main; params = ([]); vars = []; pre = (record { opened = []; facts = ([]); locals = []; items = ((Data (Number (pos 64)) (Global name_arr) (Of2 binary.Cons (Of unary.Vi (Number (pos 1))) (Of2 binary.Cons (Of unary.Vi (Number (pos 2))) (Of2 binary.Cons (Of unary.Vi (Number (pos 0))) (Of2 binary.Cons (Of unary.Vi (Number (pos 0))) Nil))))) ∷ (Data (Number (pos 64)) (Global name_x) (Of2 binary.Cons (Of unary.Vi (Number (pos 3))) Nil)) ∷ (Data (Number (pos 64)) (Global name_g) (Of2 binary.Cons (Of unary.Vi (Number (pos 3))) Nil)) ∷ (Data (Number (pos 64)) (Global name_l) (Of2 binary.Cons (Of unary.Vi (Number (pos 0))) Nil)) ∷ []) }); post = (record { opened = (sort.List ∷ []); facts = ((Rel relation.Eq (Var 0 sort.Val) (Of unary.Vi (Number (pos 0)))) ∷ []); locals = []; items = ((Data (Number (pos 64)) (Global name_arr) (Of2 binary.Cons (Of unary.Vi (Number (pos 4))) (Of2 binary.Cons (Of unary.Vi (Number (pos 2))) (Of2 binary.Cons (Of unary.Vi (Number (pos 0))) (Of2 binary.Cons (Of unary.Vi (Number (pos 0))) Nil))))) ∷ (Data (Number (pos 64)) (Global name_g) (Of2 binary.Cons (Of unary.Vi (Number (pos 3))) Nil)) ∷ (Data (Number (pos 64)) (Global name_x) (Var 1 sort.List)) ∷ (Data (Number (pos 64)) (Global name_l) (Of2 binary.Cons Undef Nil)) ∷ []) }) }) ∷ []) }) (record { is_void = false; name = name_main; params = ([]); vars = []; pre = (record { opened = []; facts = ([]); locals = []; items = ((Data (Number (pos 64)) (Global name_arr) (Of2 binary.Cons (Of unary.Vi (Number (pos 1))) (Of2 binary.Cons (Of unary.Vi (Number (pos 2))) (Of2 binary.Cons (Of unary.Vi (Number (pos 0))) (Of2 binary.Cons (Of unary.Vi (Number (pos 0))) Nil))))) ∷ (Data (Number (pos 64)) (Global name_x) (Of2 binary.Cons (Of unary.Vi (Number (pos 3))) Nil)) ∷ (Data (Number (pos 64)) (Global name_g) (Of2 binary.Cons (Of unary.Vi (Number (pos 3))) Nil)) ∷ (Data (Number (pos 64)) (Global name_l) (Of2 binary.Cons (Of unary.Vi (Number (pos 0))) Nil)) ∷ []) }); post = (record { opened = (sort.List ∷ []); facts = ((Rel relation.Eq (Var 0 sort.Val) (Of unary.Vi (Number (pos 0)))) ∷ []); locals = []; items = ((Data (Number (pos 64)) (Global name_arr) (Of2 binary.Cons (Of unary.Vi (Number (pos 4))) (Of2 binary.Cons (Of unary.Vi (Number (pos 2))) (Of2 binary.Cons (Of unary.Vi (Number (pos 0))) (Of2 binary.Cons (Of unary.Vi (Number (pos 0))) Nil))))) ∷ (Data (Number (pos 64)) (Global name_g) (Of2 binary.Cons (Of unary.Vi (Number (pos 3))) Nil)) ∷ (Data (Number (pos 64)) (Global name_x) (Var 1 sort.List)) ∷ (Data (Number (pos 64)) (Global name_l) (Of2 binary.Cons Undef Nil)) ∷ []) }) }) (record { temps = (name_s ∷ name_t ∷ name_i ∷ name_x1 ∷ name_d0 ∷ name_p1 ∷ name_q1 ∷ []); body = (c.Then (c.Set 0 (c.Const 0)) (c.Then (c.Set 1 (c.Const 1)) (c.Then (c.OnLock lock.Make (c.Address (root.Global name_l 1) c.Here)) (c.Then (c.OnLock lock.Release (c.Address (root.Global name_l 1) c.Here)) (c.Then (c.Set 3 (c.Binary two.Mul kind.Unsigned (c.Const 3) (c.Const 5))) (c.Then (c.Store (root.Global name_arr 4) (c.Index kind.Signed (c.Const 0) c.Here) (c.Binary two.Add kind.Signed (c.Const 1) (c.Const 3))) (c.Then (c.OnLock lock.Acquire (c.Address (root.Global name_l 1) c.Here)) (c.Then (c.OnLock lock.Free (c.Address (root.Global name_l 1) c.Here)) (c.Then (c.Return (Some (c.Const 0))) c.End))))))))) }) (s.Then 1 (s.Set ([]) ([])) s.NoBlock (s.Then 2 (s.Set ([]) ([])) s.NoBlock (s.Then 3 (s.Fold name_ov 0 ([]) ((Of unary.Vi (Number (pos 3))) ∷ []) ([])) s.NoBlock (s.Then 4 (s.Release 3 4 ([])) s.NoBlock (s.Then 5 (s.Set ([]) ([])) s.NoBlock (s.Then 6 (s.Store 0 ([]) ([])) s.NoBlock (s.Then 7 (s.Acquire 2 ([])) s.NoBlock (s.Then 8 (s.Unfold 4 ((name_k1 ∷ []) ∷ [])) (s.WithBlock (s.Then 9 (s.FreeLock 2 3 ([]) ([])) s.NoBlock (s.Then 10 (s.Return ((Of2 binary.Cons (Named name_k1) Nil) ∷ []) ([]) ([])) s.NoBlock s.End)) s.NoBlock) s.End)))))))) ≡ (RefusedAt 4 18 1)
unfolding computing
random_809 = refl

random_810 : body_verdict (record { predicates = ((record { name = name_ov; args = ([]); cases = ((record { opened = (sort.Val ∷ []); facts = ([]); locals = []; items = ((Data (Number (pos 1)) (Global name_x) (Of2 binary.Cons (Var 0 sort.Val) Nil)) ∷ []) }) ∷ []) }) ∷ []); specs = ((record { is_void = false; name = name_main; params = ([]); vars = []; pre = (record { opened = []; facts = ([]); locals = []; items = ((Data (Number (pos 64)) (Global name_arr) (Of2 binary.Cons (Of unary.Vi (Number (pos 1))) (Of2 binary.Cons (Of unary.Vi (Number (pos 2))) (Of2 binary.Cons (Of unary.Vi (Number (pos 0))) (Of2 binary.Cons (Of unary.Vi (Number (pos 0))) Nil))))) ∷ (Data (Number (pos 64)) (Global name_x) (Of2 binary.Cons (Of unary.Vi (Number (pos 3))) Nil)) ∷ (Data (Number (pos 64)) (Global name_g) (Of2 binary.Cons (Of unary.Vi (Number (pos 3))) Nil)) ∷ (Data (Number (pos 64)) (Global name_l) (Of2 binary.Cons (Of unary.Vi (Number (pos 0))) Nil)) ∷ []) }); post = (record { opened = (sort.List ∷ []); facts = ((Rel relation.Eq (Var 0 sort.Val) (Of unary.Vi (Number (pos 0)))) ∷ []); locals = []; items = ((Data (Number (pos 64)) (Global name_arr) (Of2 binary.Cons (Of unary.Vi (Number (pos 4))) (Of2 binary.Cons (Of unary.Vi (Number (pos 2))) (Of2 binary.Cons (Of unary.Vi (Number (pos 0))) (Of2 binary.Cons (Of unary.Vi (Number (pos 0))) Nil))))) ∷ (Data (Number (pos 64)) (Global name_g) (Of2 binary.Cons (Of unary.Vi (Number (pos 3))) Nil)) ∷ (Data (Number (pos 64)) (Global name_x) (Var 1 sort.List)) ∷ (Data (Number (pos 64)) (Global name_l) (Of2 binary.Cons Undef Nil)) ∷ []) }) }) ∷ []) }) (record { is_void = false; name = name_main; params = ([]); vars = []; pre = (record { opened = []; facts = ([]); locals = []; items = ((Data (Number (pos 64)) (Global name_arr) (Of2 binary.Cons (Of unary.Vi (Number (pos 1))) (Of2 binary.Cons (Of unary.Vi (Number (pos 2))) (Of2 binary.Cons (Of unary.Vi (Number (pos 0))) (Of2 binary.Cons (Of unary.Vi (Number (pos 0))) Nil))))) ∷ (Data (Number (pos 64)) (Global name_x) (Of2 binary.Cons (Of unary.Vi (Number (pos 3))) Nil)) ∷ (Data (Number (pos 64)) (Global name_g) (Of2 binary.Cons (Of unary.Vi (Number (pos 3))) Nil)) ∷ (Data (Number (pos 64)) (Global name_l) (Of2 binary.Cons (Of unary.Vi (Number (pos 0))) Nil)) ∷ []) }); post = (record { opened = (sort.List ∷ []); facts = ((Rel relation.Eq (Var 0 sort.Val) (Of unary.Vi (Number (pos 0)))) ∷ []); locals = []; items = ((Data (Number (pos 64)) (Global name_arr) (Of2 binary.Cons (Of unary.Vi (Number (pos 4))) (Of2 binary.Cons (Of unary.Vi (Number (pos 2))) (Of2 binary.Cons (Of unary.Vi (Number (pos 0))) (Of2 binary.Cons (Of unary.Vi (Number (pos 0))) Nil))))) ∷ (Data (Number (pos 64)) (Global name_g) (Of2 binary.Cons (Of unary.Vi (Number (pos 3))) Nil)) ∷ (Data (Number (pos 64)) (Global name_x) (Var 1 sort.List)) ∷ (Data (Number (pos 64)) (Global name_l) (Of2 binary.Cons Undef Nil)) ∷ []) }) }) (record { temps = (name_s ∷ name_t ∷ name_i ∷ name_x1 ∷ name_d0 ∷ name_p1 ∷ name_q1 ∷ []); body = (c.Then (c.Set 0 (c.Const 0)) (c.Then (c.Set 1 (c.Const 1)) (c.Then (c.OnLock lock.Make (c.Address (root.Global name_l 1) c.Here)) (c.Then (c.OnLock lock.Release (c.Address (root.Global name_l 1) c.Here)) (c.Then (c.Set 3 (c.Binary two.Mul kind.Unsigned (c.Const 3) (c.Const 5))) (c.Then (c.Store (root.Global name_arr 4) (c.Index kind.Signed (c.Const 0) c.Here) (c.Binary two.Add kind.Signed (c.Const 1) (c.Const 3))) (c.Then (c.OnLock lock.Acquire (c.Address (root.Global name_l 1) c.Here)) (c.Then (c.OnLock lock.Free (c.Address (root.Global name_l 1) c.Here)) (c.Then (c.Return (Some (c.Const 0))) c.End))))))))) }) (s.Then 1 (s.Set ([]) ([])) s.NoBlock (s.Then 2 (s.Set ([]) ([])) s.NoBlock (s.Then 3 (s.MakeLock 3 (record { name = name_ov; args = ([]) }) ([]) ([])) s.NoBlock (s.Then 4 (s.Fold name_ov 0 ([]) ((Of unary.Vi (Number (pos 3))) ∷ []) ([])) s.NoBlock (s.Then 5 (s.Release 3 4 ([])) s.NoBlock (s.Then 6 (s.Set ([]) ([])) s.NoBlock (s.Then 7 (s.Store 0 ([]) ([])) s.NoBlock (s.Then 8 (s.Acquire 2 ([])) s.NoBlock (s.Then 9 (s.Unfold 4 ((name_k1 ∷ []) ∷ [])) (s.WithBlock (s.Then 10 (s.FreeLock 2 3 ([]) ([])) s.NoBlock (s.Then 11 (s.Return ((Of2 binary.Cons (Named name_k1) Nil) ∷ []) ([]) ([])) s.NoBlock s.End)) s.NoBlock) s.End))))))))) ≡ (RefusedAt 4 21 5)
unfolding computing
random_810 = refl

random_811 : body_verdict (record { predicates = ((record { name = name_ov; args = ([]); cases = ((record { opened = (sort.Val ∷ []); facts = ([]); locals = []; items = ((Data (Number (pos 64)) (Global name_x) (Of2 binary.Cons (Var 0 sort.Val) Nil)) ∷ []) }) ∷ []) }) ∷ []); specs = ((record { is_void = false; name = name_main; params = ([]); vars = []; pre = (record { opened = []; facts = ([]); locals = []; items = ((Data (Number (pos 64)) (Global name_arr) (Of2 binary.Cons (Of unary.Vi (Number (pos 1))) (Of2 binary.Cons (Of unary.Vi (Number (pos 2))) (Of2 binary.Cons (Of unary.Vi (Number (pos 0))) (Of2 binary.Cons (Of unary.Vi (Number (pos 0))) Nil))))) ∷ (Data (Number (pos 64)) (Global name_x) (Of2 binary.Cons (Of unary.Vi (Number (pos 3))) Nil)) ∷ (Data (Number (pos 64)) (Global name_g) (Of2 binary.Cons (Of unary.Vi (Number (pos 3))) Nil)) ∷ (Data (Number (pos 64)) (Global name_l) (Of2 binary.Cons (Of unary.Vi (Number (pos 0))) Nil)) ∷ []) }); post = (record { opened = (sort.List ∷ []); facts = ((Rel relation.Eq (Var 0 sort.Val) (Of unary.Vi (Number (pos 0)))) ∷ []); locals = []; items = ((Data (Number (pos 64)) (Global name_arr) (Of2 binary.Cons (Of unary.Vi (Number (pos 4))) (Of2 binary.Cons (Of unary.Vi (Number (pos 2))) (Of2 binary.Cons (Of unary.Vi (Number (pos 0))) (Of2 binary.Cons (Of unary.Vi (Number (pos 0))) Nil))))) ∷ (Data (Number (pos 64)) (Global name_g) (Of2 binary.Cons (Of unary.Vi (Number (pos 3))) Nil)) ∷ (Data (Number (pos 64)) (Global name_x) (Var 1 sort.List)) ∷ (Data (Number (pos 64)) (Global name_l) (Of2 binary.Cons Undef Nil)) ∷ []) }) }) ∷ []) }) (record { is_void = false; name = name_main; params = ([]); vars = []; pre = (record { opened = []; facts = ([]); locals = []; items = ((Data (Number (pos 64)) (Global name_arr) (Of2 binary.Cons (Of unary.Vi (Number (pos 1))) (Of2 binary.Cons (Of unary.Vi (Number (pos 2))) (Of2 binary.Cons (Of unary.Vi (Number (pos 0))) (Of2 binary.Cons (Of unary.Vi (Number (pos 0))) Nil))))) ∷ (Data (Number (pos 64)) (Global name_x) (Of2 binary.Cons (Of unary.Vi (Number (pos 3))) Nil)) ∷ (Data (Number (pos 64)) (Global name_g) (Of2 binary.Cons (Of unary.Vi (Number (pos 3))) Nil)) ∷ (Data (Number (pos 64)) (Global name_l) (Of2 binary.Cons (Of unary.Vi (Number (pos 0))) Nil)) ∷ []) }); post = (record { opened = (sort.List ∷ []); facts = ((Rel relation.Eq (Var 0 sort.Val) (Of unary.Vi (Number (pos 0)))) ∷ []); locals = []; items = ((Data (Number (pos 64)) (Global name_arr) (Of2 binary.Cons (Of unary.Vi (Number (pos 4))) (Of2 binary.Cons (Of unary.Vi (Number (pos 2))) (Of2 binary.Cons (Of unary.Vi (Number (pos 0))) (Of2 binary.Cons (Of unary.Vi (Number (pos 0))) Nil))))) ∷ (Data (Number (pos 64)) (Global name_g) (Of2 binary.Cons (Of unary.Vi (Number (pos 3))) Nil)) ∷ (Data (Number (pos 64)) (Global name_x) (Var 1 sort.List)) ∷ (Data (Number (pos 64)) (Global name_l) (Of2 binary.Cons Undef Nil)) ∷ []) }) }) (record { temps = (name_s ∷ name_t ∷ name_i ∷ name_x1 ∷ name_d0 ∷ name_p1 ∷ name_q1 ∷ []); body = (c.Then (c.Set 0 (c.Const 0)) (c.Then (c.Set 1 (c.Const 1)) (c.Then (c.OnLock lock.Make (c.Address (root.Global name_l 1) c.Here)) (c.Then (c.OnLock lock.Release (c.Address (root.Global name_l 1) c.Here)) (c.Then (c.Set 3 (c.Binary two.Mul kind.Unsigned (c.Const 3) (c.Const 5))) (c.Then (c.Store (root.Global name_arr 4) (c.Index kind.Signed (c.Const 0) c.Here) (c.Binary two.Add kind.Signed (c.Const 1) (c.Const 3))) (c.Then (c.OnLock lock.Acquire (c.Address (root.Global name_l 1) c.Here)) (c.Then (c.OnLock lock.Free (c.Address (root.Global name_l 1) c.Here)) (c.Then (c.Return (Some (c.Const 0))) c.End))))))))) }) (s.Then 1 (s.Set ([]) ([])) s.NoBlock (s.Then 2 (s.Set ([]) ([])) s.NoBlock (s.Then 3 (s.MakeLock 3 (record { name = name_ov; args = ([]) }) ([]) ([])) s.NoBlock (s.Then 4 (s.Fold name_ov 0 ([]) ((Of unary.Vi (Number (pos 3))) ∷ []) ([])) s.NoBlock (s.Then 5 (s.Release 3 4 ([])) s.NoBlock (s.Then 6 (s.Release 3 4 ([])) s.NoBlock (s.Then 7 (s.Set ([]) ([])) s.NoBlock (s.Then 8 (s.Call ([]) ([]) ([]) ([])) s.NoBlock (s.Then 9 (s.Store 0 ([]) ([])) s.NoBlock (s.Then 10 (s.Acquire 2 ([])) s.NoBlock (s.Then 11 (s.Unfold 4 ((name_k1 ∷ []) ∷ [])) (s.WithBlock (s.Then 12 (s.FreeLock 2 3 ([]) ([])) s.NoBlock (s.Then 13 (s.Return ((Of2 binary.Cons (Named name_k1) Nil) ∷ []) ([]) ([])) s.NoBlock s.End)) s.NoBlock) s.End))))))))))) ≡ (RefusedAt 6 18 1)
unfolding computing
random_811 = refl

random_812 : body_verdict (record { predicates = ((record { name = name_ov; args = ([]); cases = ((record { opened = (sort.Val ∷ []); facts = ([]); locals = []; items = ((Data (Number (pos 64)) (Global name_x) (Of2 binary.Cons (Var 0 sort.Val) Nil)) ∷ []) }) ∷ []) }) ∷ []); specs = ((record { is_void = false; name = name_main; params = ([]); vars = []; pre = (record { opened = []; facts = ([]); locals = []; items = ((Data (Number (pos 64)) (Global name_arr) (Of2 binary.Cons (Of unary.Vi (Number (pos 1))) (Of2 binary.Cons (Of unary.Vi (Number (pos 2))) (Of2 binary.Cons (Of unary.Vi (Number (pos 0))) (Of2 binary.Cons (Of unary.Vi (Number (pos 0))) Nil))))) ∷ (Data (Number (pos 64)) (Global name_x) (Of2 binary.Cons (Of unary.Vi (Number (pos 3))) Nil)) ∷ (Data (Number (pos 64)) (Global name_g) (Of2 binary.Cons (Of unary.Vi (Number (pos 3))) Nil)) ∷ (Data (Number (pos 64)) (Global name_l) (Of2 binary.Cons (Of unary.Vi (Number (pos 0))) Nil)) ∷ []) }); post = (record { opened = (sort.List ∷ []); facts = ((Rel relation.Eq (Var 0 sort.Val) (Of unary.Vi (Number (pos 0)))) ∷ []); locals = []; items = ((Data (Number (pos 64)) (Global name_arr) (Of2 binary.Cons (Of unary.Vi (Number (pos 4))) (Of2 binary.Cons (Of unary.Vi (Number (pos 2))) (Of2 binary.Cons (Of unary.Vi (Number (pos 0))) (Of2 binary.Cons (Of unary.Vi (Number (pos 0))) Nil))))) ∷ (Data (Number (pos 64)) (Global name_g) (Of2 binary.Cons (Of unary.Vi (Number (pos 3))) Nil)) ∷ (Data (Number (pos 64)) (Global name_x) (Var 1 sort.List)) ∷ (Data (Number (pos 64)) (Global name_l) (Of2 binary.Cons Undef Nil)) ∷ []) }) }) ∷ []) }) (record { is_void = false; name = name_main; params = ([]); vars = []; pre = (record { opened = []; facts = ([]); locals = []; items = ((Data (Number (pos 64)) (Global name_arr) (Of2 binary.Cons (Of unary.Vi (Number (pos 1))) (Of2 binary.Cons (Of unary.Vi (Number (pos 2))) (Of2 binary.Cons (Of unary.Vi (Number (pos 0))) (Of2 binary.Cons (Of unary.Vi (Number (pos 0))) Nil))))) ∷ (Data (Number (pos 64)) (Global name_x) (Of2 binary.Cons (Of unary.Vi (Number (pos 3))) Nil)) ∷ (Data (Number (pos 64)) (Global name_g) (Of2 binary.Cons (Of unary.Vi (Number (pos 3))) Nil)) ∷ (Data (Number (pos 64)) (Global name_l) (Of2 binary.Cons (Of unary.Vi (Number (pos 0))) Nil)) ∷ []) }); post = (record { opened = (sort.List ∷ []); facts = ((Rel relation.Eq (Var 0 sort.Val) (Of unary.Vi (Number (pos 0)))) ∷ []); locals = []; items = ((Data (Number (pos 64)) (Global name_arr) (Of2 binary.Cons (Of unary.Vi (Number (pos 4))) (Of2 binary.Cons (Of unary.Vi (Number (pos 2))) (Of2 binary.Cons (Of unary.Vi (Number (pos 0))) (Of2 binary.Cons (Of unary.Vi (Number (pos 0))) Nil))))) ∷ (Data (Number (pos 64)) (Global name_g) (Of2 binary.Cons (Of unary.Vi (Number (pos 3))) Nil)) ∷ (Data (Number (pos 64)) (Global name_x) (Var 1 sort.List)) ∷ (Data (Number (pos 64)) (Global name_l) (Of2 binary.Cons Undef Nil)) ∷ []) }) }) (record { temps = (name_s ∷ name_t ∷ name_i ∷ name_x1 ∷ name_d0 ∷ name_p1 ∷ name_q1 ∷ []); body = (c.Then (c.Set 0 (c.Const 1)) (c.Then (c.Set 1 (c.Const 1)) (c.Then (c.OnLock lock.Make (c.Address (root.Global name_l 1) c.Here)) (c.Then (c.OnLock lock.Release (c.Address (root.Global name_l 1) c.Here)) (c.Then (c.Set 3 (c.Binary two.Mul kind.Unsigned (c.Const 3) (c.Const 5))) (c.Then (c.Store (root.Global name_arr 4) (c.Index kind.Signed (c.Const 0) c.Here) (c.Binary two.Add kind.Signed (c.Const 1) (c.Const 3))) (c.Then (c.OnLock lock.Acquire (c.Address (root.Global name_l 1) c.Here)) (c.Then (c.OnLock lock.Free (c.Address (root.Global name_l 1) c.Here)) (c.Then (c.Return (Some (c.Const 0))) c.End))))))))) }) (s.Then 1 (s.Set ([]) ([])) s.NoBlock (s.Then 2 (s.Set ([]) ([])) s.NoBlock (s.Then 3 (s.MakeLock 3 (record { name = name_ov; args = ([]) }) ([]) ([])) s.NoBlock (s.Then 4 (s.Fold name_ov 0 ([]) ((Of unary.Vi (Number (pos 3))) ∷ []) ([])) s.NoBlock (s.Then 5 (s.Release 3 4 ([])) s.NoBlock (s.Then 6 (s.Set ([]) ([])) s.NoBlock (s.Then 7 (s.Store 63 ([]) ([])) s.NoBlock (s.Then 8 (s.Acquire 2 ([])) s.NoBlock (s.Then 9 (s.Unfold 4 ((name_k1 ∷ []) ∷ [])) (s.WithBlock (s.Then 10 (s.FreeLock 2 3 ([]) ([])) s.NoBlock (s.Then 11 (s.Return ((Of2 binary.Cons (Named name_k1) Nil) ∷ []) ([]) ([])) s.NoBlock s.End)) s.NoBlock) s.End))))))))) ≡ (RefusedAt 7 4 1)
unfolding computing
random_812 = refl

random_813 : body_verdict (record { predicates = ((record { name = name_two; args = (sort.Val ∷ []); cases = ((record { opened = []; facts = ((Rel relation.Eq (Var 0 sort.Val) (Of unary.Vi (Number (pos 0)))) ∷ []); locals = []; items = ([]) }) ∷ (record { opened = (sort.Int ∷ sort.Val ∷ []); facts = ((Rel relation.Ne (Var 0 sort.Val) (Of unary.Vi (Number (pos 0)))) ∷ (Rel relation.Le (Number (pos 0)) (Var 1 sort.Int)) ∷ (Rel relation.Le (Var 1 sort.Int) (Number (pos 9))) ∷ []); locals = []; items = ((Data (Number (pos 64)) (Var 0 sort.Val) (Of2 binary.Cons (Of unary.Vi (Var 1 sort.Int)) (Of2 binary.Cons (Var 2 sort.Val) (Of2 binary.Cons (Of unary.Vi (Number (pos 7))) Nil)))) ∷ []) }) ∷ []) }) ∷ []); specs = ((record { is_void = false; name = name_f; params = (name_r0 ∷ name_s1 ∷ []); vars = ((name_e0, sort.Val) ∷ (name_l0, sort.List) ∷ (name_w1, sort.Val) ∷ (name_h1, sort.Int) ∷ (name_q1, sort.Val) ∷ []); pre = (record { opened = []; facts = ((Rel relation.Eq (Of unary.Len (Var 1 sort.List)) (Number (pos 8))) ∷ (Rel relation.Le (Number (pos 0)) (Var 3 sort.Int)) ∷ (Rel relation.Le (Var 3 sort.Int) (Number (pos 20))) ∷ []); locals = ((name_r0, (Var 0 sort.Val)) ∷ (name_s1, (Var 2 sort.Val)) ∷ []); items = ((Data (Number (pos 64)) (Var 0 sort.Val) (Var 1 sort.List)) ∷ (Pred (record { name = name_two; args = ((Var 2 sort.Val) ∷ []) })) ∷ []) }); post = (record { opened = []; facts = ([]); locals = []; items = ((Data (Number (pos 64)) (Var 0 sort.Val) (Var 1 sort.List)) ∷ (Pred (record { name = name_two; args = ((Var 2 sort.Val) ∷ []) })) ∷ []) }) }) ∷ (record { is_void = false; name = name_main; params = ([]); vars = []; pre = (record { opened = []; facts = ([]); locals = []; items = ([]) }); post = (record { opened = []; facts = ((Rel relation.Eq (Var 0 sort.Val) (Of unary.Vi (Number (pos 0)))) ∷ []); locals = []; items = ([]) }) }) ∷ []) }) (record { is_void = false; name = name_f; params = (name_r0 ∷ name_s1 ∷ []); vars = ((name_e0, sort.Val) ∷ (name_l0, sort.List) ∷ (name_w1, sort.Val) ∷ (name_h1, sort.Int) ∷ (name_q1, sort.Val) ∷ []); pre = (record { opened = []; facts = ((Rel relation.Eq (Of unary.Len (Var 1 sort.List)) (Number (pos 8))) ∷ (Rel relation.Le (Number (pos 0)) (Var 3 sort.Int)) ∷ (Rel relation.Le (Var 3 sort.Int) (Number (pos 20))) ∷ []); locals = ((name_r0, (Var 0 sort.Val)) ∷ (name_s1, (Var 2 sort.Val)) ∷ []); items = ((Data (Number (pos 64)) (Var 0 sort.Val) (Var 1 sort.List)) ∷ (Pred (record { name = name_two; args = ((Var 2 sort.Val) ∷ []) })) ∷ []) }); post = (record { opened = []; facts = ([]); locals = []; items = ((Data (Number (pos 64)) (Var 0 sort.Val) (Var 1 sort.List)) ∷ (Pred (record { name = name_two; args = ((Var 2 sort.Val) ∷ []) })) ∷ []) }) }) (record { temps = (name_r0 ∷ name_s1 ∷ name_s ∷ name_t ∷ name_i ∷ name_x1 ∷ name_d0 ∷ name_p1 ∷ name_q1 ∷ []); body = (c.Then (c.Set 2 (c.Const 0)) (c.Then (c.Set 3 (c.Const 3)) (c.Then (c.Set 5 (c.Binary two.Add kind.Unsigned (c.Const 4294967295) (c.Const 1))) (c.Then (c.Set 5 (c.Unary one.Invert kind.Unsigned (c.Const 0))) (c.Then (c.Load 3 (root.Temp 0) (c.Index kind.Signed (c.Const 7) c.Here)) (c.Then (c.If (c.Nonzero kind.Signed (c.Binary two.Lt kind.Unsigned (c.Temp 5) (c.Const 9))) (c.Then (c.Set 2 (c.Binary two.Lt kind.Signed (c.Const 3) (c.Const 2))) (c.Then (c.Set 5 (c.Binary two.Shl kind.Unsigned (c.Const 1) (c.Const 4))) c.End)) c.End) (c.Then (c.Set 5 (c.Unary one.Invert kind.Unsigned (c.Const 0))) (c.Then (c.Set 2 (c.Binary two.Mul kind.Signed (c.Const 1) (c.Const 1))) (c.Then (c.Return (Some (c.Binary two.Add kind.Signed (c.Const 3) (c.Const 2)))) c.End))))))))) }) (s.Then 1 (s.Set ([]) ([])) s.NoBlock (s.Then 2 (s.Set ([]) ([])) s.NoBlock (s.Then 3 (s.Set ([]) ([])) s.NoBlock (s.Then 4 (s.Set ([]) ([])) s.NoBlock (s.Then 5 (s.Load 0 ([]) ((record { lines = ((line.Comb (((pos 1), 1) ∷ ((pos 1), 4) ∷ [])) ∷ []) }) ∷ [])) s.NoBlock (s.Then 6 (s.If ([]) ([]) ([]) ([])) (s.WithBlock (s.Then 7 (s.Absurd ([])) s.NoBlock s.End) (s.WithBlock (s.Then 8 (s.Naming name_k1 (Of unary.Vi (Number (pos 4294967295)))) s.NoBlock (s.Then 9 (s.Set ([]) ([])) s.NoBlock (s.Then 10 (s.Set ([]) ([])) s.NoBlock (s.Then 11 (s.Return ([]) ([]) ([])) s.NoBlock s.End)))) s.NoBlock)) s.End)))))) ≡ Accepted
unfolding computing
random_813 = refl

random_814 : body_verdict (record { predicates = ((record { name = name_two; args = (sort.Val ∷ []); cases = ((record { opened = []; facts = ((Rel relation.Eq (Var 0 sort.Val) (Of unary.Vi (Number (pos 0)))) ∷ []); locals = []; items = ([]) }) ∷ (record { opened = (sort.Int ∷ sort.Val ∷ []); facts = ((Rel relation.Ne (Var 0 sort.Val) (Of unary.Vi (Number (pos 0)))) ∷ (Rel relation.Le (Number (pos 0)) (Var 1 sort.Int)) ∷ (Rel relation.Le (Var 1 sort.Int) (Number (pos 9))) ∷ []); locals = []; items = ((Data (Number (pos 64)) (Var 0 sort.Val) (Of2 binary.Cons (Of unary.Vi (Var 1 sort.Int)) (Of2 binary.Cons (Var 2 sort.Val) (Of2 binary.Cons (Of unary.Vi (Number (pos 7))) Nil)))) ∷ []) }) ∷ []) }) ∷ []); specs = ((record { is_void = false; name = name_f; params = (name_r0 ∷ name_s1 ∷ []); vars = ((name_e0, sort.Val) ∷ (name_l0, sort.List) ∷ (name_w1, sort.Val) ∷ (name_h1, sort.Int) ∷ (name_q1, sort.Val) ∷ []); pre = (record { opened = []; facts = ((Rel relation.Eq (Of unary.Len (Var 1 sort.List)) (Number (pos 8))) ∷ (Rel relation.Le (Number (pos 0)) (Var 3 sort.Int)) ∷ (Rel relation.Le (Var 3 sort.Int) (Number (pos 20))) ∷ []); locals = ((name_r0, (Var 0 sort.Val)) ∷ (name_s1, (Var 2 sort.Val)) ∷ []); items = ((Data (Number (pos 64)) (Var 0 sort.Val) (Var 1 sort.List)) ∷ (Pred (record { name = name_two; args = ((Var 2 sort.Val) ∷ []) })) ∷ []) }); post = (record { opened = []; facts = ([]); locals = []; items = ((Data (Number (pos 64)) (Var 0 sort.Val) (Var 1 sort.List)) ∷ (Pred (record { name = name_two; args = ((Var 2 sort.Val) ∷ []) })) ∷ []) }) }) ∷ (record { is_void = false; name = name_main; params = ([]); vars = []; pre = (record { opened = []; facts = ([]); locals = []; items = ([]) }); post = (record { opened = []; facts = ((Rel relation.Eq (Var 0 sort.Val) (Of unary.Vi (Number (pos 0)))) ∷ []); locals = []; items = ([]) }) }) ∷ []) }) (record { is_void = false; name = name_main; params = ([]); vars = []; pre = (record { opened = []; facts = ([]); locals = []; items = ([]) }); post = (record { opened = []; facts = ((Rel relation.Eq (Var 0 sort.Val) (Of unary.Vi (Number (pos 0)))) ∷ []); locals = []; items = ([]) }) }) (record { temps = ([]); body = (c.Then (c.Return (Some (c.Const 0))) c.End) }) (s.Then 1 (s.Return ([]) ([]) ([])) s.NoBlock s.End) ≡ Accepted
unfolding computing
random_814 = refl

random_815 : body_verdict (record { predicates = ((record { name = name_two; args = (sort.Val ∷ []); cases = ((record { opened = []; facts = ((Rel relation.Eq (Var 0 sort.Val) (Of unary.Vi (Number (pos 0)))) ∷ []); locals = []; items = ([]) }) ∷ (record { opened = (sort.Int ∷ sort.Val ∷ []); facts = ((Rel relation.Ne (Var 0 sort.Val) (Of unary.Vi (Number (pos 0)))) ∷ (Rel relation.Le (Number (pos 0)) (Var 1 sort.Int)) ∷ (Rel relation.Le (Var 1 sort.Int) (Number (pos 9))) ∷ []); locals = []; items = ((Data (Number (pos 64)) (Var 0 sort.Val) (Of2 binary.Cons (Of unary.Vi (Var 1 sort.Int)) (Of2 binary.Cons (Var 2 sort.Val) (Of2 binary.Cons (Of unary.Vi (Number (pos 7))) Nil)))) ∷ []) }) ∷ []) }) ∷ []); specs = ((record { is_void = false; name = name_f; params = (name_r0 ∷ name_s1 ∷ []); vars = ((name_e0, sort.Val) ∷ (name_l0, sort.List) ∷ (name_w1, sort.Val) ∷ (name_h1, sort.Int) ∷ (name_q1, sort.Val) ∷ []); pre = (record { opened = []; facts = ((Rel relation.Eq (Of unary.Len (Var 1 sort.List)) (Number (pos 8))) ∷ (Rel relation.Le (Number (pos 0)) (Var 3 sort.Int)) ∷ (Rel relation.Le (Var 3 sort.Int) (Number (pos 20))) ∷ []); locals = ((name_r0, (Var 0 sort.Val)) ∷ (name_s1, (Var 2 sort.Val)) ∷ []); items = ((Data (Number (pos 64)) (Var 0 sort.Val) (Var 1 sort.List)) ∷ (Pred (record { name = name_two; args = ((Var 2 sort.Val) ∷ []) })) ∷ []) }); post = (record { opened = []; facts = ([]); locals = []; items = ((Data (Number (pos 64)) (Var 0 sort.Val) (Var 1 sort.List)) ∷ (Pred (record { name = name_two; args = ((Var 2 sort.Val) ∷ []) })) ∷ []) }) }) ∷ (record { is_void = false; name = name_main; params = ([]); vars = []; pre = (record { opened = []; facts = ([]); locals = []; items = ([]) }); post = (record { opened = []; facts = ((Rel relation.Eq (Var 0 sort.Val) (Of unary.Vi (Number (pos 0)))) ∷ []); locals = []; items = ([]) }) }) ∷ []) }) (record { is_void = false; name = name_f; params = (name_r0 ∷ name_s1 ∷ []); vars = ((name_e0, sort.Val) ∷ (name_l0, sort.List) ∷ (name_w1, sort.Val) ∷ (name_h1, sort.Int) ∷ (name_q1, sort.Val) ∷ []); pre = (record { opened = []; facts = ((Rel relation.Eq (Of unary.Len (Var 1 sort.List)) (Number (pos 8))) ∷ (Rel relation.Le (Number (pos 0)) (Var 3 sort.Int)) ∷ (Rel relation.Le (Var 3 sort.Int) (Number (pos 20))) ∷ []); locals = ((name_r0, (Var 0 sort.Val)) ∷ (name_s1, (Var 2 sort.Val)) ∷ []); items = ((Data (Number (pos 64)) (Var 0 sort.Val) (Var 1 sort.List)) ∷ (Pred (record { name = name_two; args = ((Var 2 sort.Val) ∷ []) })) ∷ []) }); post = (record { opened = []; facts = ([]); locals = []; items = ((Data (Number (pos 64)) (Var 0 sort.Val) (Var 1 sort.List)) ∷ (Pred (record { name = name_two; args = ((Var 2 sort.Val) ∷ []) })) ∷ []) }) }) (record { temps = (name_r0 ∷ name_s1 ∷ name_s ∷ name_t ∷ name_i ∷ name_x1 ∷ name_d0 ∷ name_p1 ∷ name_q1 ∷ []); body = (c.Then (c.Set 2 (c.Const 0)) (c.Then (c.Set 3 (c.Const 3)) (c.Then (c.Set 5 (c.Binary two.Add kind.Unsigned (c.Const 4294967295) (c.Const 1))) (c.Then (c.Set 5 (c.Unary one.Invert kind.Unsigned (c.Const 0))) (c.Then (c.Load 3 (root.Temp 0) (c.Index kind.Signed (c.Const 7) c.Here)) (c.Then (c.If (c.Nonzero kind.Signed (c.Binary two.Lt kind.Unsigned (c.Temp 5) (c.Const 9))) (c.Then (c.Set 2 (c.Binary two.Lt kind.Signed (c.Const 3) (c.Const 2))) (c.Then (c.Set 5 (c.Binary two.Shl kind.Unsigned (c.Const 1) (c.Const 4))) c.End)) c.End) (c.Then (c.Set 5 (c.Unary one.Invert kind.Unsigned (c.Const 0))) (c.Then (c.Set 2 (c.Binary two.Mul kind.Signed (c.Const 1) (c.Const 1))) (c.Then (c.Return (Some (c.Binary two.Add kind.Signed (c.Const 3) (c.Const 2)))) c.End))))))))) }) (s.Then 1 (s.Set ([]) ([])) s.NoBlock (s.Then 2 (s.Set ([]) ([])) s.NoBlock (s.Then 3 (s.Set ([]) ([])) s.NoBlock (s.Then 4 (s.Load 0 ([]) ((record { lines = ((line.Comb (((pos 1), 1) ∷ ((pos 1), 4) ∷ [])) ∷ []) }) ∷ [])) s.NoBlock (s.Then 5 (s.If ([]) ([]) ([]) ([])) (s.WithBlock (s.Then 6 (s.Absurd ([])) s.NoBlock s.End) (s.WithBlock (s.Then 7 (s.Naming name_k1 (Of unary.Vi (Number (pos 4294967295)))) s.NoBlock (s.Then 8 (s.Set ([]) ([])) s.NoBlock (s.Then 9 (s.Set ([]) ([])) s.NoBlock (s.Then 10 (s.Return ([]) ([]) ([])) s.NoBlock s.End)))) s.NoBlock)) s.End))))) ≡ (RefusedAt 4 3 1)
unfolding computing
random_815 = refl

random_816 : body_verdict (record { predicates = ((record { name = name_two; args = (sort.Val ∷ []); cases = ((record { opened = []; facts = ((Rel relation.Eq (Var 0 sort.Val) (Of unary.Vi (Number (pos 0)))) ∷ []); locals = []; items = ([]) }) ∷ (record { opened = (sort.Int ∷ sort.Val ∷ []); facts = ((Rel relation.Ne (Var 0 sort.Val) (Of unary.Vi (Number (pos 0)))) ∷ (Rel relation.Le (Number (pos 0)) (Var 1 sort.Int)) ∷ (Rel relation.Le (Var 1 sort.Int) (Number (pos 9))) ∷ []); locals = []; items = ((Data (Number (pos 64)) (Var 0 sort.Val) (Of2 binary.Cons (Of unary.Vi (Var 1 sort.Int)) (Of2 binary.Cons (Var 2 sort.Val) (Of2 binary.Cons (Of unary.Vi (Number (pos 7))) Nil)))) ∷ []) }) ∷ []) }) ∷ []); specs = ((record { is_void = false; name = name_f; params = (name_r0 ∷ name_s1 ∷ []); vars = ((name_e0, sort.Val) ∷ (name_l0, sort.List) ∷ (name_w1, sort.Val) ∷ (name_h1, sort.Int) ∷ (name_q1, sort.Val) ∷ []); pre = (record { opened = []; facts = ((Rel relation.Eq (Of unary.Len (Var 1 sort.List)) (Number (pos 8))) ∷ (Rel relation.Le (Number (pos 0)) (Var 3 sort.Int)) ∷ (Rel relation.Le (Var 3 sort.Int) (Number (pos 20))) ∷ []); locals = ((name_r0, (Var 0 sort.Val)) ∷ (name_s1, (Var 2 sort.Val)) ∷ []); items = ((Data (Number (pos 64)) (Var 0 sort.Val) (Var 1 sort.List)) ∷ (Pred (record { name = name_two; args = ((Var 2 sort.Val) ∷ []) })) ∷ []) }); post = (record { opened = []; facts = ([]); locals = []; items = ((Data (Number (pos 64)) (Var 0 sort.Val) (Var 1 sort.List)) ∷ (Pred (record { name = name_two; args = ((Var 2 sort.Val) ∷ []) })) ∷ []) }) }) ∷ (record { is_void = false; name = name_main; params = ([]); vars = []; pre = (record { opened = []; facts = ([]); locals = []; items = ([]) }); post = (record { opened = []; facts = ((Rel relation.Eq (Var 0 sort.Val) (Of unary.Vi (Number (pos 0)))) ∷ []); locals = []; items = ([]) }) }) ∷ []) }) (record { is_void = false; name = name_f; params = (name_r0 ∷ name_s1 ∷ []); vars = ((name_e0, sort.Val) ∷ (name_l0, sort.List) ∷ (name_w1, sort.Val) ∷ (name_h1, sort.Int) ∷ (name_q1, sort.Val) ∷ []); pre = (record { opened = []; facts = ((Rel relation.Eq (Of unary.Len (Var 1 sort.List)) (Number (pos 8))) ∷ (Rel relation.Le (Number (pos 0)) (Var 3 sort.Int)) ∷ (Rel relation.Le (Var 3 sort.Int) (Number (pos 20))) ∷ []); locals = ((name_r0, (Var 0 sort.Val)) ∷ (name_s1, (Var 2 sort.Val)) ∷ []); items = ((Data (Number (pos 64)) (Var 0 sort.Val) (Var 1 sort.List)) ∷ (Pred (record { name = name_two; args = ((Var 2 sort.Val) ∷ []) })) ∷ []) }); post = (record { opened = []; facts = ([]); locals = []; items = ((Data (Number (pos 64)) (Var 0 sort.Val) (Var 1 sort.List)) ∷ (Pred (record { name = name_two; args = ((Var 2 sort.Val) ∷ []) })) ∷ []) }) }) (record { temps = (name_r0 ∷ name_s1 ∷ name_s ∷ name_t ∷ name_i ∷ name_x1 ∷ name_d0 ∷ name_p1 ∷ name_q1 ∷ []); body = (c.Then (c.Set 2 (c.Const 0)) (c.Then (c.Set 3 (c.Const 3)) (c.Then (c.Set 5 (c.Binary two.Add kind.Unsigned (c.Const 4294967295) (c.Const 1))) (c.Then (c.Set 5 (c.Unary one.Invert kind.Unsigned (c.Const 0))) (c.Then (c.Load 3 (root.Temp 0) (c.Index kind.Signed (c.Const 7) c.Here)) (c.Then (c.If (c.Nonzero kind.Signed (c.Binary two.Lt kind.Unsigned (c.Temp 5) (c.Const 9))) (c.Then (c.Set 2 (c.Binary two.Lt kind.Signed (c.Const 3) (c.Const 2))) (c.Then (c.Set 5 (c.Binary two.Shl kind.Unsigned (c.Const 1) (c.Const 4))) c.End)) c.End) (c.Then (c.Set 5 (c.Unary one.Invert kind.Unsigned (c.Const 0))) (c.Then (c.Set 2 (c.Binary two.Mul kind.Signed (c.Const 1) (c.Const 1))) (c.Then (c.Return (Some (c.Binary two.Add kind.Signed (c.Const 3) (c.Const 2)))) c.End))))))))) }) (s.Then 1 (s.Set ([]) ([])) s.NoBlock (s.Then 2 (s.Set ([]) ([])) s.NoBlock (s.Then 3 (s.Set ([]) ([])) s.NoBlock (s.Then 4 (s.Set ([]) ([])) s.NoBlock (s.Then 5 (s.Load 0 ([]) ((record { lines = ((line.Comb (((pos 1), 32) ∷ ((pos 1), 4) ∷ [])) ∷ []) }) ∷ [])) s.NoBlock (s.Then 6 (s.If ([]) ([]) ([]) ([])) (s.WithBlock (s.Then 7 (s.Absurd ([])) s.NoBlock s.End) (s.WithBlock (s.Then 8 (s.Naming name_k1 (Of unary.Vi (Number (pos 4294967295)))) s.NoBlock (s.Then 9 (s.Set ([]) ([])) s.NoBlock (s.Then 10 (s.Set ([]) ([])) s.NoBlock (s.Then 11 (s.Return ([]) ([]) ([])) s.NoBlock s.End)))) s.NoBlock)) s.End)))))) ≡ (RefusedAt 5 3 3)
unfolding computing
random_816 = refl

random_817 : body_verdict (record { predicates = ((record { name = name_two; args = (sort.Val ∷ []); cases = ((record { opened = []; facts = ((Rel relation.Eq (Var 0 sort.Val) (Of unary.Vi (Number (pos 0)))) ∷ []); locals = []; items = ([]) }) ∷ (record { opened = (sort.Int ∷ sort.Val ∷ []); facts = ((Rel relation.Ne (Var 0 sort.Val) (Of unary.Vi (Number (pos 1)))) ∷ (Rel relation.Le (Number (pos 0)) (Var 1 sort.Int)) ∷ (Rel relation.Le (Var 1 sort.Int) (Number (pos 9))) ∷ []); locals = []; items = ((Data (Number (pos 64)) (Var 0 sort.Val) (Of2 binary.Cons (Of unary.Vi (Var 1 sort.Int)) (Of2 binary.Cons (Var 2 sort.Val) (Of2 binary.Cons (Of unary.Vi (Number (pos 7))) Nil)))) ∷ []) }) ∷ []) }) ∷ []); specs = ((record { is_void = false; name = name_f; params = (name_r0 ∷ name_s1 ∷ []); vars = ((name_e0, sort.Val) ∷ (name_l0, sort.List) ∷ (name_w1, sort.Val) ∷ (name_h1, sort.Int) ∷ (name_q1, sort.Val) ∷ []); pre = (record { opened = []; facts = ((Rel relation.Eq (Of unary.Len (Var 1 sort.List)) (Number (pos 8))) ∷ (Rel relation.Le (Number (pos 0)) (Var 3 sort.Int)) ∷ (Rel relation.Le (Var 3 sort.Int) (Number (pos 20))) ∷ []); locals = ((name_r0, (Var 0 sort.Val)) ∷ (name_s1, (Var 2 sort.Val)) ∷ []); items = ((Data (Number (pos 64)) (Var 0 sort.Val) (Var 1 sort.List)) ∷ (Pred (record { name = name_two; args = ((Var 2 sort.Val) ∷ []) })) ∷ []) }); post = (record { opened = []; facts = ([]); locals = []; items = ((Data (Number (pos 64)) (Var 0 sort.Val) (Var 1 sort.List)) ∷ (Pred (record { name = name_two; args = ((Var 2 sort.Val) ∷ []) })) ∷ []) }) }) ∷ (record { is_void = false; name = name_main; params = ([]); vars = []; pre = (record { opened = []; facts = ([]); locals = []; items = ([]) }); post = (record { opened = []; facts = ((Rel relation.Eq (Var 0 sort.Val) (Of unary.Vi (Number (pos 0)))) ∷ []); locals = []; items = ([]) }) }) ∷ []) }) (record { is_void = false; name = name_f; params = (name_r0 ∷ name_s1 ∷ []); vars = ((name_e0, sort.Val) ∷ (name_l0, sort.List) ∷ (name_w1, sort.Val) ∷ (name_h1, sort.Int) ∷ (name_q1, sort.Val) ∷ []); pre = (record { opened = []; facts = ((Rel relation.Eq (Of unary.Len (Var 1 sort.List)) (Number (pos 8))) ∷ (Rel relation.Le (Number (pos 0)) (Var 3 sort.Int)) ∷ (Rel relation.Le (Var 3 sort.Int) (Number (pos 20))) ∷ []); locals = ((name_r0, (Var 0 sort.Val)) ∷ (name_s1, (Var 2 sort.Val)) ∷ []); items = ((Data (Number (pos 64)) (Var 0 sort.Val) (Var 1 sort.List)) ∷ (Pred (record { name = name_two; args = ((Var 2 sort.Val) ∷ []) })) ∷ []) }); post = (record { opened = []; facts = ([]); locals = []; items = ((Data (Number (pos 64)) (Var 0 sort.Val) (Var 1 sort.List)) ∷ (Pred (record { name = name_two; args = ((Var 2 sort.Val) ∷ []) })) ∷ []) }) }) (record { temps = (name_r0 ∷ name_s1 ∷ name_s ∷ name_t ∷ name_i ∷ name_x1 ∷ name_d0 ∷ name_p1 ∷ name_q1 ∷ []); body = (c.Then (c.Set 2 (c.Const 0)) (c.Then (c.Set 3 (c.Const 3)) (c.Then (c.Set 5 (c.Binary two.Add kind.Unsigned (c.Const 4294967295) (c.Const 1))) (c.Then (c.Set 5 (c.Unary one.Invert kind.Unsigned (c.Const 0))) (c.Then (c.Load 3 (root.Temp 0) (c.Index kind.Signed (c.Const 7) c.Here)) (c.Then (c.If (c.Nonzero kind.Signed (c.Binary two.Lt kind.Unsigned (c.Temp 5) (c.Const 9))) (c.Then (c.Set 2 (c.Binary two.Lt kind.Signed (c.Const 3) (c.Const 2))) (c.Then (c.Set 5 (c.Binary two.Shl kind.Unsigned (c.Const 1) (c.Const 4))) c.End)) c.End) (c.Then (c.Set 5 (c.Unary one.Invert kind.Unsigned (c.Const 0))) (c.Then (c.Set 2 (c.Binary two.Mul kind.Signed (c.Const 1) (c.Const 1))) (c.Then (c.Return (Some (c.Binary two.Add kind.Signed (c.Const 3) (c.Const 2)))) c.End))))))))) }) (s.Then 1 (s.Set ([]) ([])) s.NoBlock (s.Then 2 (s.Set ([]) ([])) s.NoBlock (s.Then 3 (s.Set ([]) ([])) s.NoBlock (s.Then 4 (s.Set ([]) ([])) s.NoBlock (s.Then 5 (s.Load 0 ([]) ((record { lines = ((line.Comb (((pos 1), 1) ∷ ((pos 1), 4) ∷ [])) ∷ []) }) ∷ [])) s.NoBlock (s.Then 6 (s.If ([]) ([]) ([]) ([])) (s.WithBlock (s.Then 7 (s.Absurd ([])) s.NoBlock s.End) (s.WithBlock (s.Then 8 (s.Naming name_k1 (Of unary.Vi (Number (pos 4294967295)))) s.NoBlock (s.Then 9 (s.Set ([]) ([])) s.NoBlock (s.Then 10 (s.Set ([]) ([])) s.NoBlock (s.Then 11 (s.Return ([]) ([]) ([])) s.NoBlock s.End)))) s.NoBlock)) s.End)))))) ≡ Accepted
unfolding computing
random_817 = refl

random_818 : body_verdict (record { predicates = ((record { name = name_two; args = (sort.Val ∷ []); cases = ((record { opened = []; facts = ((Rel relation.Eq (Var 0 sort.Val) (Of unary.Vi (Number (pos 0)))) ∷ []); locals = []; items = ([]) }) ∷ (record { opened = (sort.Int ∷ sort.Val ∷ []); facts = ((Rel relation.Ne (Var 0 sort.Val) (Of unary.Vi (Number (pos 1)))) ∷ (Rel relation.Le (Number (pos 0)) (Var 1 sort.Int)) ∷ (Rel relation.Le (Var 1 sort.Int) (Number (pos 9))) ∷ []); locals = []; items = ((Data (Number (pos 64)) (Var 0 sort.Val) (Of2 binary.Cons (Of unary.Vi (Var 1 sort.Int)) (Of2 binary.Cons (Var 2 sort.Val) (Of2 binary.Cons (Of unary.Vi (Number (pos 7))) Nil)))) ∷ []) }) ∷ []) }) ∷ []); specs = ((record { is_void = false; name = name_f; params = (name_r0 ∷ name_s1 ∷ []); vars = ((name_e0, sort.Val) ∷ (name_l0, sort.List) ∷ (name_w1, sort.Val) ∷ (name_h1, sort.Int) ∷ (name_q1, sort.Val) ∷ []); pre = (record { opened = []; facts = ((Rel relation.Eq (Of unary.Len (Var 1 sort.List)) (Number (pos 8))) ∷ (Rel relation.Le (Number (pos 0)) (Var 3 sort.Int)) ∷ (Rel relation.Le (Var 3 sort.Int) (Number (pos 20))) ∷ []); locals = ((name_r0, (Var 0 sort.Val)) ∷ (name_s1, (Var 2 sort.Val)) ∷ []); items = ((Data (Number (pos 64)) (Var 0 sort.Val) (Var 1 sort.List)) ∷ (Pred (record { name = name_two; args = ((Var 2 sort.Val) ∷ []) })) ∷ []) }); post = (record { opened = []; facts = ([]); locals = []; items = ((Data (Number (pos 64)) (Var 0 sort.Val) (Var 1 sort.List)) ∷ (Pred (record { name = name_two; args = ((Var 2 sort.Val) ∷ []) })) ∷ []) }) }) ∷ (record { is_void = false; name = name_main; params = ([]); vars = []; pre = (record { opened = []; facts = ([]); locals = []; items = ([]) }); post = (record { opened = []; facts = ((Rel relation.Eq (Var 0 sort.Val) (Of unary.Vi (Number (pos 0)))) ∷ []); locals = []; items = ([]) }) }) ∷ []) }) (record { is_void = false; name = name_main; params = ([]); vars = []; pre = (record { opened = []; facts = ([]); locals = []; items = ([]) }); post = (record { opened = []; facts = ((Rel relation.Eq (Var 0 sort.Val) (Of unary.Vi (Number (pos 0)))) ∷ []); locals = []; items = ([]) }) }) (record { temps = ([]); body = (c.Then (c.Return (Some (c.Const 0))) c.End) }) (s.Then 1 (s.Return ([]) ([]) ([])) s.NoBlock s.End) ≡ Accepted
unfolding computing
random_818 = refl

random_819 : body_verdict (record { predicates = ((record { name = name_two; args = (sort.Val ∷ []); cases = ((record { opened = []; facts = ((Rel relation.Eq (Var 0 sort.Val) (Of unary.Vi (Number (pos 0)))) ∷ []); locals = []; items = ([]) }) ∷ (record { opened = (sort.Int ∷ sort.Val ∷ []); facts = ((Rel relation.Ne (Var 0 sort.Val) (Of unary.Vi (Number (pos 0)))) ∷ (Rel relation.Le (Number (pos 0)) (Var 1 sort.Int)) ∷ (Rel relation.Le (Var 1 sort.Int) (Number (pos 9))) ∷ []); locals = []; items = ((Data (Number (pos 64)) (Var 0 sort.Val) (Of2 binary.Cons (Of unary.Vi (Var 1 sort.Int)) (Of2 binary.Cons (Var 2 sort.Val) (Of2 binary.Cons (Of unary.Vi (Number (pos 7))) Nil)))) ∷ []) }) ∷ []) }) ∷ []); specs = ((record { is_void = false; name = name_f; params = (name_r0 ∷ name_s1 ∷ []); vars = ((name_e0, sort.Val) ∷ (name_l0, sort.List) ∷ (name_w1, sort.Val) ∷ (name_h1, sort.Int) ∷ (name_q1, sort.Val) ∷ []); pre = (record { opened = []; facts = ((Rel relation.Eq (Of unary.Len (Var 1 sort.List)) (Number (pos 8))) ∷ (Rel relation.Le (Number (pos 0)) (Var 3 sort.Int)) ∷ (Rel relation.Le (Var 3 sort.Int) (Number (pos 20))) ∷ []); locals = ((name_r0, (Var 0 sort.Val)) ∷ (name_s1, (Var 2 sort.Val)) ∷ []); items = ((Data (Number (pos 64)) (Var 0 sort.Val) (Var 1 sort.List)) ∷ (Pred (record { name = name_two; args = ((Var 2 sort.Val) ∷ []) })) ∷ []) }); post = (record { opened = []; facts = ([]); locals = []; items = ((Data (Number (pos 64)) (Var 0 sort.Val) (Var 1 sort.List)) ∷ (Pred (record { name = name_two; args = ((Var 2 sort.Val) ∷ []) })) ∷ []) }) }) ∷ (record { is_void = false; name = name_main; params = ([]); vars = []; pre = (record { opened = []; facts = ([]); locals = []; items = ([]) }); post = (record { opened = []; facts = ((Rel relation.Eq (Var 0 sort.Val) (Of unary.Vi (Number (pos 0)))) ∷ []); locals = []; items = ([]) }) }) ∷ []) }) (record { is_void = false; name = name_f; params = (name_r0 ∷ name_s1 ∷ []); vars = ((name_e0, sort.Val) ∷ (name_l0, sort.List) ∷ (name_w1, sort.Val) ∷ (name_h1, sort.Int) ∷ (name_q1, sort.Val) ∷ []); pre = (record { opened = []; facts = ((Rel relation.Eq (Of unary.Len (Var 1 sort.List)) (Number (pos 8))) ∷ (Rel relation.Le (Number (pos 0)) (Var 3 sort.Int)) ∷ (Rel relation.Le (Var 3 sort.Int) (Number (pos 20))) ∷ []); locals = ((name_r0, (Var 0 sort.Val)) ∷ (name_s1, (Var 2 sort.Val)) ∷ []); items = ((Data (Number (pos 64)) (Var 0 sort.Val) (Var 1 sort.List)) ∷ (Pred (record { name = name_two; args = ((Var 2 sort.Val) ∷ []) })) ∷ []) }); post = (record { opened = []; facts = ([]); locals = []; items = ((Data (Number (pos 64)) (Var 0 sort.Val) (Var 1 sort.List)) ∷ (Pred (record { name = name_two; args = ((Var 2 sort.Val) ∷ []) })) ∷ []) }) }) (record { temps = (name_r0 ∷ name_s1 ∷ name_s ∷ name_t ∷ name_i ∷ name_x1 ∷ name_d0 ∷ name_p1 ∷ name_q1 ∷ []); body = (c.Then (c.Set 2 (c.Const 0)) (c.Then (c.Set 3 (c.Const 3)) (c.Then (c.Set 5 (c.Binary two.Add kind.Unsigned (c.Const 4294967295) (c.Const 1))) (c.Then (c.Set 5 (c.Unary one.Invert kind.Unsigned (c.Const 0))) (c.Then (c.Load 3 (root.Temp 0) (c.Index kind.Signed (c.Const 7) c.Here)) (c.Then (c.If (c.Nonzero kind.Signed (c.Binary two.Lt kind.Unsigned (c.Temp 5) (c.Const 9))) (c.Then (c.Set 2 (c.Binary two.Lt kind.Signed (c.Const 3) (c.Const 2))) (c.Then (c.Set 5 (c.Binary two.Shl kind.Unsigned (c.Const 1) (c.Const 4))) c.End)) c.End) (c.Then (c.Set 5 (c.Unary one.Invert kind.Unsigned (c.Const 0))) (c.Then (c.Set 2 (c.Binary two.Mul kind.Signed (c.Const 1) (c.Const 1))) (c.Then (c.Return (Some (c.Binary two.Add kind.Signed (c.Const 3) (c.Const 2)))) c.End))))))))) }) (s.Then 1 (s.Set ([]) ([])) s.NoBlock (s.Then 2 (s.Set ([]) ([])) s.NoBlock (s.Then 3 (s.Set ([]) ([])) s.NoBlock (s.Then 4 (s.Set ([]) ([])) s.NoBlock (s.Then 5 (s.Set ([]) ([])) s.NoBlock (s.Then 6 (s.Load 0 ([]) ((record { lines = ((line.Comb (((pos 1), 1) ∷ ((pos 1), 4) ∷ [])) ∷ []) }) ∷ [])) s.NoBlock (s.Then 7 (s.If ([]) ([]) ([]) ([])) (s.WithBlock (s.Then 8 (s.Absurd ([])) s.NoBlock s.End) (s.WithBlock (s.Then 9 (s.Naming name_k1 (Of unary.Vi (Number (pos 4294967295)))) s.NoBlock (s.Then 10 (s.Set ([]) ([])) s.NoBlock (s.Then 11 (s.Set ([]) ([])) s.NoBlock (s.Then 12 (s.Return ([]) ([]) ([])) s.NoBlock s.End)))) s.NoBlock)) s.End))))))) ≡ (RefusedAt 5 2 1)
unfolding computing
random_819 = refl

random_820 : body_verdict (record { predicates = ((record { name = name_two; args = (sort.Val ∷ []); cases = ((record { opened = []; facts = ((Rel relation.Eq (Var 0 sort.Val) (Of unary.Vi (Number (pos 0)))) ∷ []); locals = []; items = ([]) }) ∷ (record { opened = (sort.Int ∷ sort.Val ∷ []); facts = ((Rel relation.Ne (Var 0 sort.Val) (Of unary.Vi (Number (pos 0)))) ∷ (Rel relation.Le (Number (pos 0)) (Var 1 sort.Int)) ∷ (Rel relation.Le (Var 1 sort.Int) (Number (pos 9))) ∷ []); locals = []; items = ((Data (Number (pos 64)) (Var 0 sort.Val) (Of2 binary.Cons (Of unary.Vi (Var 1 sort.Int)) (Of2 binary.Cons (Var 2 sort.Val) (Of2 binary.Cons (Of unary.Vi (Number (pos 7))) Nil)))) ∷ []) }) ∷ []) }) ∷ []); specs = ((record { is_void = false; name = name_f; params = (name_r0 ∷ name_s1 ∷ []); vars = ((name_e0, sort.Val) ∷ (name_l0, sort.List) ∷ (name_w1, sort.Val) ∷ (name_h1, sort.Int) ∷ (name_q1, sort.Val) ∷ []); pre = (record { opened = []; facts = ((Rel relation.Eq (Of unary.Len (Var 1 sort.List)) (Number (pos 8))) ∷ (Rel relation.Le (Number (pos 0)) (Var 3 sort.Int)) ∷ (Rel relation.Le (Var 3 sort.Int) (Number (pos 20))) ∷ []); locals = ((name_r0, (Var 0 sort.Val)) ∷ (name_s1, (Var 2 sort.Val)) ∷ []); items = ((Data (Number (pos 64)) (Var 0 sort.Val) (Var 1 sort.List)) ∷ (Pred (record { name = name_two; args = ((Var 2 sort.Val) ∷ []) })) ∷ []) }); post = (record { opened = []; facts = ([]); locals = []; items = ((Data (Number (pos 64)) (Var 0 sort.Val) (Var 1 sort.List)) ∷ (Pred (record { name = name_two; args = ((Var 2 sort.Val) ∷ []) })) ∷ []) }) }) ∷ (record { is_void = false; name = name_main; params = ([]); vars = []; pre = (record { opened = []; facts = ([]); locals = []; items = ([]) }); post = (record { opened = []; facts = ((Rel relation.Eq (Var 0 sort.Val) (Of unary.Vi (Number (pos 0)))) ∷ []); locals = []; items = ([]) }) }) ∷ []) }) (record { is_void = false; name = name_f; params = (name_r0 ∷ name_s1 ∷ []); vars = ((name_e0, sort.Val) ∷ (name_l0, sort.List) ∷ (name_w1, sort.Val) ∷ (name_h1, sort.Int) ∷ (name_q1, sort.Val) ∷ []); pre = (record { opened = []; facts = ((Rel relation.Eq (Of unary.Len (Var 1 sort.List)) (Number (pos 8))) ∷ (Rel relation.Le (Number (pos 0)) (Var 3 sort.Int)) ∷ (Rel relation.Le (Var 3 sort.Int) (Number (pos 20))) ∷ []); locals = ((name_r0, (Var 0 sort.Val)) ∷ (name_s1, (Var 2 sort.Val)) ∷ []); items = ((Data (Number (pos 64)) (Var 0 sort.Val) (Var 1 sort.List)) ∷ (Pred (record { name = name_two; args = ((Var 2 sort.Val) ∷ []) })) ∷ []) }); post = (record { opened = []; facts = ([]); locals = []; items = ((Data (Number (pos 64)) (Var 0 sort.Val) (Var 1 sort.List)) ∷ (Pred (record { name = name_two; args = ((Var 2 sort.Val) ∷ []) })) ∷ []) }) }) (record { temps = (name_r0 ∷ name_s1 ∷ name_s ∷ name_t ∷ name_i ∷ name_x1 ∷ name_d0 ∷ name_p1 ∷ name_q1 ∷ []); body = (c.Then (c.Set 2 (c.Const 0)) (c.Then (c.Set 3 (c.Const 3)) (c.Then (c.Set 5 (c.Binary two.Add kind.Unsigned (c.Const 4294967295) (c.Const 1))) (c.Then (c.Set 5 (c.Unary one.Invert kind.Unsigned (c.Const 0))) (c.Then (c.Load 3 (root.Temp 0) (c.Index kind.Signed (c.Const 7) c.Here)) (c.Then (c.If (c.Nonzero kind.Signed (c.Binary two.Lt kind.Unsigned (c.Temp 5) (c.Const 9))) (c.Then (c.Set 2 (c.Binary two.Lt kind.Signed (c.Const 3) (c.Const 2))) (c.Then (c.Set 5 (c.Binary two.Shl kind.Unsigned (c.Const 1) (c.Const 4))) c.End)) c.End) (c.Then (c.Set 5 (c.Unary one.Invert kind.Unsigned (c.Const 0))) (c.Then (c.Set 2 (c.Binary two.Mul kind.Signed (c.Const 1) (c.Const 1))) (c.Then (c.Return (Some (c.Binary two.Add kind.Signed (c.Const 3) (c.Const 2)))) c.End))))))))) }) (s.Then 1 (s.Set ([]) ([])) s.NoBlock (s.Then 2 (s.Block 0 (record { opened = []; facts = ([]); locals = []; items = ([]) }) ([]) ([])) (s.WithBlock s.End s.NoBlock) (s.Then 3 (s.Set ([]) ([])) s.NoBlock (s.Then 4 (s.Set ([]) ([])) s.NoBlock (s.Then 5 (s.Set ([]) ([])) s.NoBlock (s.Then 6 (s.Load 0 ([]) ((record { lines = ((line.Comb (((pos 1), 1) ∷ ((pos 1), 4) ∷ [])) ∷ []) }) ∷ [])) s.NoBlock (s.Then 7 (s.If ([]) ([]) ([]) ([])) (s.WithBlock (s.Then 8 (s.Absurd ([])) s.NoBlock s.End) (s.WithBlock (s.Then 9 (s.Naming name_k1 (Of unary.Vi (Number (pos 4294967295)))) s.NoBlock (s.Then 10 (s.Set ([]) ([])) s.NoBlock (s.Then 11 (s.Set ([]) ([])) s.NoBlock (s.Then 12 (s.Return ([]) ([]) ([])) s.NoBlock s.End)))) s.NoBlock)) s.End))))))) ≡ (RefusedAt 3 0 10)
unfolding computing
random_820 = refl

random_821 : body_verdict (record { predicates = ((record { name = name_two; args = (sort.Val ∷ []); cases = ((record { opened = []; facts = ((Rel relation.Eq (Var 0 sort.Val) (Of unary.Vi (Number (pos 0)))) ∷ []); locals = []; items = ([]) }) ∷ (record { opened = (sort.Int ∷ sort.Val ∷ []); facts = ((Rel relation.Ne (Var 0 sort.Val) (Of unary.Vi (Number (pos 0)))) ∷ (Rel relation.Le (Number (pos 0)) (Var 1 sort.Int)) ∷ (Rel relation.Le (Var 1 sort.Int) (Number (pos 9))) ∷ []); locals = []; items = ((Data (Number (pos 64)) (Var 0 sort.Val) (Of2 binary.Cons (Of unary.Vi (Var 1 sort.Int)) (Of2 binary.Cons (Var 2 sort.Val) (Of2 binary.Cons (Of unary.Vi (Number (pos 7))) Nil)))) ∷ []) }) ∷ []) }) ∷ []); specs = ((record { is_void = false; name = name_f; params = (name_r0 ∷ name_s1 ∷ []); vars = ((name_e0, sort.Val) ∷ (name_l0, sort.List) ∷ (name_w1, sort.Val) ∷ (name_h1, sort.Int) ∷ (name_q1, sort.Val) ∷ []); pre = (record { opened = []; facts = ((Rel relation.Eq (Of unary.Len (Var 1 sort.List)) (Number (pos 8))) ∷ (Rel relation.Le (Number (pos 0)) (Var 3 sort.Int)) ∷ (Rel relation.Le (Var 3 sort.Int) (Number (pos 20))) ∷ []); locals = ((name_r0, (Var 0 sort.Val)) ∷ (name_s1, (Var 2 sort.Val)) ∷ []); items = ((Data (Number (pos 64)) (Var 0 sort.Val) (Var 1 sort.List)) ∷ (Pred (record { name = name_two; args = ((Var 2 sort.Val) ∷ []) })) ∷ []) }); post = (record { opened = []; facts = ([]); locals = []; items = ((Data (Number (pos 64)) (Var 0 sort.Val) (Var 1 sort.List)) ∷ (Pred (record { name = name_two; args = ((Var 2 sort.Val) ∷ []) })) ∷ []) }) }) ∷ (record { is_void = false; name = name_main; params = ([]); vars = []; pre = (record { opened = []; facts = ([]); locals = []; items = ([]) }); post = (record { opened = []; facts = ((Rel relation.Eq (Var 0 sort.Val) (Of unary.Vi (Number (pos 0)))) ∷ []); locals = []; items = ([]) }) }) ∷ []) }) (record { is_void = false; name = name_f; params = (name_r0 ∷ name_s1 ∷ []); vars = ((name_e0, sort.Val) ∷ (name_l0, sort.List) ∷ (name_w1, sort.Val) ∷ (name_h1, sort.Int) ∷ (name_q1, sort.Val) ∷ []); pre = (record { opened = []; facts = ((Rel relation.Eq (Of unary.Len (Var 1 sort.List)) (Number (pos 8))) ∷ (Rel relation.Le (Number (pos 0)) (Var 3 sort.Int)) ∷ (Rel relation.Le (Var 3 sort.Int) (Number (pos 20))) ∷ []); locals = ((name_r0, (Var 0 sort.Val)) ∷ (name_s1, (Var 2 sort.Val)) ∷ []); items = ((Data (Number (pos 64)) (Var 0 sort.Val) (Var 1 sort.List)) ∷ (Pred (record { name = name_two; args = ((Var 2 sort.Val) ∷ []) })) ∷ []) }); post = (record { opened = []; facts = ([]); locals = []; items = ((Data (Number (pos 64)) (Var 0 sort.Val) (Var 1 sort.List)) ∷ (Pred (record { name = name_two; args = ((Var 2 sort.Val) ∷ []) })) ∷ []) }) }) (record { temps = (name_r0 ∷ name_s1 ∷ name_s ∷ name_t ∷ name_i ∷ name_x1 ∷ name_d0 ∷ name_p1 ∷ name_q1 ∷ []); body = (c.Then (c.Set 2 (c.Const 0)) (c.Then (c.Set 3 (c.Const 3)) (c.Then (c.Set 5 (c.Binary two.Add kind.Unsigned (c.Const 4294967295) (c.Const 1))) (c.Then (c.Set 5 (c.Unary one.Invert kind.Unsigned (c.Const 0))) (c.Then (c.Load 3 (root.Temp 0) (c.Index kind.Signed (c.Const 7) c.Here)) (c.Then (c.If (c.Nonzero kind.Signed (c.Binary two.Lt kind.Unsigned (c.Temp 5) (c.Const 9))) (c.Then (c.Set 2 (c.Binary two.Lt kind.Signed (c.Const 3) (c.Const 2))) (c.Then (c.Set 5 (c.Binary two.Shl kind.Unsigned (c.Const 1) (c.Const 4))) c.End)) c.End) (c.Then (c.Set 5 (c.Unary one.Invert kind.Unsigned (c.Const 0))) (c.Then (c.Set 2 (c.Binary two.Mul kind.Signed (c.Const 1) (c.Const 1))) (c.Then (c.Return (Some (c.Binary two.Add kind.Signed (c.Const 3) (c.Const 2)))) c.End))))))))) }) (s.Then 1 (s.Set ([]) ([])) s.NoBlock (s.Then 2 (s.Set ([]) ([])) s.NoBlock (s.Then 3 (s.Set ([]) ([])) s.NoBlock (s.Then 4 (s.Set ([]) ([])) s.NoBlock (s.Then 5 (s.Load 0 ([]) ((record { lines = ((line.Comb (((pos 1), 1) ∷ ((pos 1), 4) ∷ [])) ∷ []) }) ∷ [])) s.NoBlock (s.Then 6 (s.If ([]) ([]) ([]) ([])) (s.WithBlock s.End (s.WithBlock (s.Then 7 (s.Naming name_k1 (Of unary.Vi (Number (pos 4294967295)))) s.NoBlock (s.Then 8 (s.Set ([]) ([])) s.NoBlock (s.Then 9 (s.Set ([]) ([])) s.NoBlock (s.Then 10 (s.Return ([]) ([]) ([])) s.NoBlock s.End)))) s.NoBlock)) s.End)))))) ≡ (RefusedAt 7 0 10)
unfolding computing
random_821 = refl

random_822 : body_verdict (record { predicates = ((record { name = name_two; args = (sort.Val ∷ []); cases = ((record { opened = []; facts = ((Rel relation.Eq (Var 0 sort.Val) (Of unary.Vi (Number (pos 0)))) ∷ []); locals = []; items = ([]) }) ∷ (record { opened = (sort.Int ∷ sort.Val ∷ []); facts = ((Rel relation.Ne (Var 0 sort.Val) (Of unary.Vi (Number (pos 0)))) ∷ (Rel relation.Le (Number (pos 0)) (Var 1 sort.Int)) ∷ (Rel relation.Le (Var 1 sort.Int) (Number (pos 9))) ∷ []); locals = []; items = ((Data (Number (pos 64)) (Var 0 sort.Val) (Of2 binary.Cons (Of unary.Vi (Var 1 sort.Int)) (Of2 binary.Cons (Var 2 sort.Val) (Of2 binary.Cons (Of unary.Vi (Number (pos 7))) Nil)))) ∷ []) }) ∷ []) }) ∷ []); specs = ((record { is_void = false; name = name_f; params = (name_r0 ∷ name_s1 ∷ []); vars = ((name_e0, sort.Val) ∷ (name_l0, sort.List) ∷ (name_w1, sort.Val) ∷ (name_h1, sort.Int) ∷ (name_q1, sort.Val) ∷ []); pre = (record { opened = []; facts = ((Rel relation.Eq (Of unary.Len (Var 1 sort.List)) (Number (pos 8))) ∷ (Rel relation.Le (Number (pos 0)) (Var 3 sort.Int)) ∷ (Rel relation.Le (Var 3 sort.Int) (Number (pos 20))) ∷ []); locals = ((name_r0, (Var 0 sort.Val)) ∷ (name_s1, (Var 2 sort.Val)) ∷ []); items = ((Data (Number (pos 64)) (Var 0 sort.Val) (Var 1 sort.List)) ∷ (Pred (record { name = name_two; args = ((Var 2 sort.Val) ∷ []) })) ∷ []) }); post = (record { opened = []; facts = ([]); locals = []; items = ((Data (Number (pos 64)) (Var 0 sort.Val) (Var 1 sort.List)) ∷ (Pred (record { name = name_two; args = ((Var 2 sort.Val) ∷ []) })) ∷ []) }) }) ∷ (record { is_void = false; name = name_main; params = ([]); vars = []; pre = (record { opened = []; facts = ([]); locals = []; items = ([]) }); post = (record { opened = []; facts = ((Rel relation.Eq (Var 0 sort.Val) (Of unary.Vi (Number (pos 0)))) ∷ []); locals = []; items = ([]) }) }) ∷ []) }) (record { is_void = false; name = name_main; params = ([]); vars = []; pre = (record { opened = []; facts = ([]); locals = []; items = ([]) }); post = (record { opened = []; facts = ((Rel relation.Eq (Var 0 sort.Val) (Of unary.Vi (Number (pos 0)))) ∷ []); locals = []; items = ([]) }) }) (record { temps = ([]); body = (c.Then (c.Return (Some (c.Const 2))) c.End) }) (s.Then 1 (s.Return ([]) ([]) ([])) s.NoBlock s.End) ≡ (RefusedAt 1 9 3)
unfolding computing
random_822 = refl

random_823 : body_verdict (record { predicates = ([]); specs = ((record { is_void = true; name = name_f; params = (name_n0 ∷ name_u1 ∷ []); vars = ((name_a0, sort.Int) ∷ (name_b1, sort.Int) ∷ []); pre = (record { opened = []; facts = ((Rel relation.Le (Number (pos 1)) (Var 0 sort.Int)) ∷ (Rel relation.Le (Var 0 sort.Int) (Number (pos 9))) ∷ (Rel relation.Le (Number (pos 0)) (Var 1 sort.Int)) ∷ (Rel relation.Le (Var 1 sort.Int) (Number (pos 31))) ∷ []); locals = ((name_n0, (Of unary.Vi (Var 0 sort.Int))) ∷ (name_u1, (Of unary.Vi (Var 1 sort.Int))) ∷ []); items = ([]) }); post = (record { opened = []; facts = ([]); locals = []; items = ([]) }) }) ∷ (record { is_void = false; name = name_main; params = ([]); vars = []; pre = (record { opened = []; facts = ([]); locals = []; items = ([]) }); post = (record { opened = []; facts = ((Rel relation.Eq (Var 0 sort.Val) (Of unary.Vi (Number (pos 0)))) ∷ []); locals = []; items = ([]) }) }) ∷ []) }) (record { is_void = true; name = name_f; params = (name_n0 ∷ name_u1 ∷ []); vars = ((name_a0, sort.Int) ∷ (name_b1, sort.Int) ∷ []); pre = (record { opened = []; facts = ((Rel relation.Le (Number (pos 1)) (Var 0 sort.Int)) ∷ (Rel relation.Le (Var 0 sort.Int) (Number (pos 9))) ∷ (Rel relation.Le (Number (pos 0)) (Var 1 sort.Int)) ∷ (Rel relation.Le (Var 1 sort.Int) (Number (pos 31))) ∷ []); locals = ((name_n0, (Of unary.Vi (Var 0 sort.Int))) ∷ (name_u1, (Of unary.Vi (Var 1 sort.Int))) ∷ []); items = ([]) }); post = (record { opened = []; facts = ([]); locals = []; items = ([]) }) }) (record { temps = (name_n0 ∷ name_u1 ∷ name_s ∷ name_t ∷ name_i ∷ name_x1 ∷ name_d0 ∷ name_p1 ∷ name_q1 ∷ []); body = (c.Then (c.Set 3 (c.Const 1)) (c.Then (c.Set 2 (c.Binary two.Div kind.Signed (c.Const 1) (c.Const 2))) (c.Then (c.Set 5 (c.Const 0)) (c.Then (c.Set 4 (c.Const 0)) (c.Then (c.Loop (c.Then (c.If (c.Nonzero kind.Signed (c.Binary two.Lt kind.Signed (c.Temp 4) (c.Const 3))) (c.Then (c.Set 5 (c.Binary two.Add kind.Unsigned (c.Temp 5) (c.Const 2))) (c.Then (c.Set 4 (c.Binary two.Add kind.Signed (c.Temp 4) (c.Const 1))) (c.Then c.Continue c.End))) (c.Then c.Break c.End)) c.End)) (c.Then (c.Set 2 (c.Temp 3)) (c.Then (c.Set 2 (c.Binary two.Eq kind.Signed (c.Const 1) (c.Const 1))) (c.Then (c.Malloc 7 3) (c.Then (c.If (c.Pointers (c.Temp 7) (c.Const 0) true) (c.Then (c.Return None) c.End) c.End) (c.Then (c.Store (root.Temp 7) (c.Offset 0 c.Here) (c.Const 2)) (c.Then (c.Load 3 (root.Temp 7) (c.Offset 0 c.Here)) (c.Then (c.Free (c.Temp 7)) (c.Then (c.Set 5 (c.Binary two.Rem kind.Unsigned (c.Binary two.Mul kind.Unsigned (c.Const 1) (c.Const 1)) (c.Binary two.Add kind.Unsigned (c.Const 4294967295) (c.Const 3)))) (c.Then (c.Return None) c.End)))))))))))))) }) (s.Then 1 (s.Set ([]) ([])) s.NoBlock (s.Then 2 (s.Set ([]) ([])) s.NoBlock (s.Then 3 (s.Set ([]) ([])) s.NoBlock (s.Then 4 (s.Set ([]) ([])) s.NoBlock (s.Then 5 (s.While (record { opened = (sort.Int ∷ sort.Int ∷ []); facts = ((Rel relation.Le (Number (pos 0)) (Var 0 sort.Int)) ∷ (Rel relation.Le (Var 0 sort.Int) (Number (pos 3))) ∷ []); locals = ((name_n0, (Of unary.Vi (Named name_a0))) ∷ (name_u1, (Of unary.Vi (Named name_b1))) ∷ (name_s, (Of unary.Vi (Number (pos 0)))) ∷ (name_t, (Of unary.Vi (Number (pos 1)))) ∷ (name_i, (Of unary.Vi (Var 0 sort.Int))) ∷ (name_x1, (Of unary.Vi (Var 1 sort.Int))) ∷ []); items = ([]) }) (record { opened = (sort.Int ∷ sort.Int ∷ []); facts = ((Rel relation.Le (Number (pos 0)) (Var 0 sort.Int)) ∷ (Rel relation.Le (Var 0 sort.Int) (Number (pos 3))) ∷ (Rel relation.Le (Number (pos 3)) (Var 0 sort.Int)) ∷ []); locals = ((name_n0, (Of unary.Vi (Named name_a0))) ∷ (name_u1, (Of unary.Vi (Named name_b1))) ∷ (name_s, (Of unary.Vi (Number (pos 0)))) ∷ (name_t, (Of unary.Vi (Number (pos 1)))) ∷ (name_i, (Of unary.Vi (Var 0 sort.Int))) ∷ (name_x1, (Of unary.Vi (Var 1 sort.Int))) ∷ []); items = ([]) }) (name_k3 ∷ name_k4 ∷ []) ([]) (name_k1 ∷ name_k2 ∷ [])) (s.WithBlock (s.Then 6 (s.Meet ((Number (pos 0)) ∷ (Number (pos 0)) ∷ []) ([])) s.NoBlock s.End) (s.WithBlock (s.Then 7 (s.If ([]) ((record { lines = ((line.Comb (((pos 1), 4) ∷ ((pos 1), 6) ∷ [])) ∷ []) }) ∷ (record { lines = ((line.Comb (((pos 1), 5) ∷ ((pos 1), 6) ∷ [])) ∷ []) }) ∷ []) ([]) ([])) (s.WithBlock (s.Then 8 (s.Set ([]) ([])) s.NoBlock (s.Then 9 (s.Set ([]) ((record { lines = ((line.Comb (((pos 1), 4) ∷ ((pos 1), 7) ∷ [])) ∷ []) }) ∷ (record { lines = ((line.Comb (((pos 1), 5) ∷ ((pos 1), 7) ∷ [])) ∷ []) }) ∷ (record { lines = ((line.Comb (((pos 1), 4) ∷ ((pos 1), 7) ∷ [])) ∷ []) }) ∷ (record { lines = ((line.Comb (((pos 1), 5) ∷ ((pos 1), 7) ∷ [])) ∷ []) }) ∷ [])) s.NoBlock (s.Then 10 (s.Continue ((Of2 binary.Add (Named name_k1) (Number (pos 1))) ∷ (Of2 binary.Add (Named name_k2) (Number (pos 2))) ∷ []) ((record { lines = ((line.Comb (((pos 1), 4) ∷ ((pos 1), 7) ∷ [])) ∷ []) }) ∷ [])) s.NoBlock s.End))) (s.WithBlock (s.Then 11 (s.Break ((Named name_k1) ∷ (Named name_k2) ∷ []) ([])) s.NoBlock s.End) s.NoBlock)) s.End) s.NoBlock)) (s.Then 12 (s.Set ([]) ([])) s.NoBlock (s.Then 13 (s.Set ([]) ([])) s.NoBlock (s.Then 14 (s.Malloc name_k5 ([]) ([])) (s.WithBlock (s.Then 15 (s.If ([]) ([]) ([]) ([])) (s.WithBlock (s.Then 16 (s.Return ([]) ([]) ([])) s.NoBlock s.End) (s.WithBlock (s.Then 17 (s.Absurd ([])) s.NoBlock s.End) s.NoBlock)) s.End) (s.WithBlock (s.Then 18 (s.If (0 ∷ []) ([]) ([]) ([])) (s.WithBlock (s.Then 19 (s.Subst name_k5) s.NoBlock (s.Then 20 (s.Absurd ([])) s.NoBlock s.End)) (s.WithBlock (s.Then 21 (s.Store 0 ([]) ([])) s.NoBlock (s.Then 22 (s.Load 0 ([]) ([])) s.NoBlock (s.Then 23 (s.Free 0 1 ([])) s.NoBlock (s.Then 24 (s.Set ([]) ([])) s.NoBlock (s.Then 25 (s.Return ([]) ([]) ([])) s.NoBlock s.End))))) s.NoBlock)) s.End) s.NoBlock)) s.End)))))))) ≡ Accepted
unfolding computing
random_823 = refl

random_824 : body_verdict (record { predicates = ([]); specs = ((record { is_void = true; name = name_f; params = (name_n0 ∷ name_u1 ∷ []); vars = ((name_a0, sort.Int) ∷ (name_b1, sort.Int) ∷ []); pre = (record { opened = []; facts = ((Rel relation.Le (Number (pos 1)) (Var 0 sort.Int)) ∷ (Rel relation.Le (Var 0 sort.Int) (Number (pos 9))) ∷ (Rel relation.Le (Number (pos 0)) (Var 1 sort.Int)) ∷ (Rel relation.Le (Var 1 sort.Int) (Number (pos 31))) ∷ []); locals = ((name_n0, (Of unary.Vi (Var 0 sort.Int))) ∷ (name_u1, (Of unary.Vi (Var 1 sort.Int))) ∷ []); items = ([]) }); post = (record { opened = []; facts = ([]); locals = []; items = ([]) }) }) ∷ (record { is_void = false; name = name_main; params = ([]); vars = []; pre = (record { opened = []; facts = ([]); locals = []; items = ([]) }); post = (record { opened = []; facts = ((Rel relation.Eq (Var 0 sort.Val) (Of unary.Vi (Number (pos 0)))) ∷ []); locals = []; items = ([]) }) }) ∷ []) }) (record { is_void = false; name = name_main; params = ([]); vars = []; pre = (record { opened = []; facts = ([]); locals = []; items = ([]) }); post = (record { opened = []; facts = ((Rel relation.Eq (Var 0 sort.Val) (Of unary.Vi (Number (pos 0)))) ∷ []); locals = []; items = ([]) }) }) (record { temps = ([]); body = (c.Then (c.Return (Some (c.Const 0))) c.End) }) (s.Then 1 (s.Return ([]) ([]) ([])) s.NoBlock s.End) ≡ Accepted
unfolding computing
random_824 = refl

random_825 : body_verdict (record { predicates = ([]); specs = ((record { is_void = true; name = name_f; params = (name_n0 ∷ name_u1 ∷ []); vars = ((name_a0, sort.Int) ∷ (name_b1, sort.Int) ∷ []); pre = (record { opened = []; facts = ((Rel relation.Le (Number (pos 1)) (Var 0 sort.Int)) ∷ (Rel relation.Le (Var 0 sort.Int) (Number (pos 5))) ∷ (Rel relation.Le (Number (pos 0)) (Var 1 sort.Int)) ∷ (Rel relation.Le (Var 1 sort.Int) (Number (pos 31))) ∷ []); locals = ((name_n0, (Of unary.Vi (Var 0 sort.Int))) ∷ (name_u1, (Of unary.Vi (Var 1 sort.Int))) ∷ []); items = ([]) }); post = (record { opened = []; facts = ([]); locals = []; items = ([]) }) }) ∷ (record { is_void = false; name = name_main; params = ([]); vars = []; pre = (record { opened = []; facts = ([]); locals = []; items = ([]) }); post = (record { opened = []; facts = ((Rel relation.Eq (Var 0 sort.Val) (Of unary.Vi (Number (pos 0)))) ∷ []); locals = []; items = ([]) }) }) ∷ []) }) (record { is_void = true; name = name_f; params = (name_n0 ∷ name_u1 ∷ []); vars = ((name_a0, sort.Int) ∷ (name_b1, sort.Int) ∷ []); pre = (record { opened = []; facts = ((Rel relation.Le (Number (pos 1)) (Var 0 sort.Int)) ∷ (Rel relation.Le (Var 0 sort.Int) (Number (pos 5))) ∷ (Rel relation.Le (Number (pos 0)) (Var 1 sort.Int)) ∷ (Rel relation.Le (Var 1 sort.Int) (Number (pos 31))) ∷ []); locals = ((name_n0, (Of unary.Vi (Var 0 sort.Int))) ∷ (name_u1, (Of unary.Vi (Var 1 sort.Int))) ∷ []); items = ([]) }); post = (record { opened = []; facts = ([]); locals = []; items = ([]) }) }) (record { temps = (name_n0 ∷ name_u1 ∷ name_s ∷ name_t ∷ name_i ∷ name_x1 ∷ name_d0 ∷ name_p1 ∷ name_q1 ∷ []); body = (c.Then (c.Set 3 (c.Const 1)) (c.Then (c.Set 2 (c.Binary two.Div kind.Signed (c.Const 1) (c.Const 2))) (c.Then (c.Set 5 (c.Const 0)) (c.Then (c.Set 4 (c.Const 0)) (c.Then (c.Loop (c.Then (c.If (c.Nonzero kind.Signed (c.Binary two.Lt kind.Signed (c.Temp 4) (c.Const 3))) (c.Then (c.Set 5 (c.Binary two.Add kind.Unsigned (c.Temp 5) (c.Const 2))) (c.Then (c.Set 4 (c.Binary two.Add kind.Signed (c.Temp 4) (c.Const 1))) (c.Then c.Continue c.End))) (c.Then c.Break c.End)) c.End)) (c.Then (c.Set 2 (c.Temp 3)) (c.Then (c.Set 2 (c.Binary two.Eq kind.Signed (c.Const 1) (c.Const 1))) (c.Then (c.Malloc 7 3) (c.Then (c.If (c.Pointers (c.Temp 7) (c.Const 0) true) (c.Then (c.Return None) c.End) c.End) (c.Then (c.Store (root.Temp 7) (c.Offset 0 c.Here) (c.Const 2)) (c.Then (c.Load 3 (root.Temp 7) (c.Offset 0 c.Here)) (c.Then (c.Free (c.Temp 7)) (c.Then (c.Set 5 (c.Binary two.Rem kind.Unsigned (c.Binary two.Mul kind.Unsigned (c.Const 1) (c.Const 1)) (c.Binary two.Add kind.Unsigned (c.Const 4294967295) (c.Const 3)))) (c.Then (c.Return None) c.End)))))))))))))) }) (s.Then 1 (s.Set ([]) ([])) s.NoBlock (s.Then 2 (s.Set ([]) ([])) s.NoBlock (s.Then 3 (s.Set ([]) ([])) s.NoBlock (s.Then 4 (s.Set ([]) ([])) s.NoBlock (s.Then 5 (s.While (record { opened = (sort.Int ∷ sort.Int ∷ []); facts = ((Rel relation.Le (Number (pos 0)) (Var 0 sort.Int)) ∷ (Rel relation.Le (Var 0 sort.Int) (Number (pos 3))) ∷ []); locals = ((name_n0, (Of unary.Vi (Named name_a0))) ∷ (name_u1, (Of unary.Vi (Named name_b1))) ∷ (name_s, (Of unary.Vi (Number (pos 0)))) ∷ (name_t, (Of unary.Vi (Number (pos 1)))) ∷ (name_i, (Of unary.Vi (Var 0 sort.Int))) ∷ (name_x1, (Of unary.Vi (Var 1 sort.Int))) ∷ []); items = ([]) }) (record { opened = (sort.Int ∷ sort.Int ∷ []); facts = ((Rel relation.Le (Number (pos 0)) (Var 0 sort.Int)) ∷ (Rel relation.Le (Var 0 sort.Int) (Number (pos 3))) ∷ (Rel relation.Le (Number (pos 3)) (Var 0 sort.Int)) ∷ []); locals = ((name_n0, (Of unary.Vi (Named name_a0))) ∷ (name_u1, (Of unary.Vi (Named name_b1))) ∷ (name_s, (Of unary.Vi (Number (pos 0)))) ∷ (name_t, (Of unary.Vi (Number (pos 1)))) ∷ (name_i, (Of unary.Vi (Var 0 sort.Int))) ∷ (name_x1, (Of unary.Vi (Var 1 sort.Int))) ∷ []); items = ([]) }) (name_k3 ∷ name_k4 ∷ []) ([]) (name_k1 ∷ name_k2 ∷ [])) (s.WithBlock (s.Then 6 (s.Meet ((Number (pos 0)) ∷ (Number (pos 0)) ∷ []) ([])) s.NoBlock s.End) (s.WithBlock (s.Then 7 (s.If ([]) ((record { lines = ((line.Comb (((pos 1), 4) ∷ ((pos 1), 6) ∷ [])) ∷ []) }) ∷ (record { lines = ((line.Comb (((pos 1), 5) ∷ ((pos 1), 6) ∷ [])) ∷ []) }) ∷ []) ([]) ([])) (s.WithBlock (s.Then 8 (s.Set ([]) ([])) s.NoBlock (s.Then 9 (s.Set ([]) ((record { lines = ((line.Comb (((pos 1), 4) ∷ ((pos 1), 7) ∷ [])) ∷ []) }) ∷ (record { lines = ((line.Comb (((pos 1), 5) ∷ ((pos 1), 7) ∷ [])) ∷ []) }) ∷ (record { lines = ((line.Comb (((pos 1), 4) ∷ ((pos 1), 7) ∷ [])) ∷ []) }) ∷ (record { lines = ((line.Comb (((pos 1), 5) ∷ ((pos 1), 7) ∷ [])) ∷ []) }) ∷ [])) s.NoBlock (s.Then 10 (s.Continue ((Of2 binary.Add (Named name_k1) (Number (pos 1))) ∷ (Of2 binary.Add (Named name_k2) (Number (pos 2))) ∷ []) ((record { lines = ((line.Comb (((pos 1), 4) ∷ ((pos 1), 7) ∷ [])) ∷ []) }) ∷ [])) s.NoBlock s.End))) (s.WithBlock (s.Then 11 (s.Break ((Named name_k1) ∷ (Named name_k2) ∷ []) ([])) s.NoBlock s.End) s.NoBlock)) s.End) s.NoBlock)) (s.Then 12 (s.Set ([]) ([])) s.NoBlock (s.Then 13 (s.Set ([]) ([])) s.NoBlock (s.Then 14 (s.Malloc name_k5 ([]) ([])) (s.WithBlock (s.Then 15 (s.If ([]) ([]) ([]) ([])) (s.WithBlock (s.Then 16 (s.Return ([]) ([]) ([])) s.NoBlock s.End) (s.WithBlock (s.Then 17 (s.Absurd ([])) s.NoBlock s.End) s.NoBlock)) s.End) (s.WithBlock (s.Then 18 (s.If (0 ∷ []) ([]) ([]) ([])) (s.WithBlock (s.Then 19 (s.Subst name_k5) s.NoBlock (s.Then 20 (s.Absurd ([])) s.NoBlock s.End)) (s.WithBlock (s.Then 21 (s.Store 0 ([]) ([])) s.NoBlock (s.Then 22 (s.Load 0 ([]) ([])) s.NoBlock (s.Then 23 (s.Free 0 1 ([])) s.NoBlock (s.Then 24 (s.Set ([]) ([])) s.NoBlock (s.Then 25 (s.Return ([]) ([]) ([])) s.NoBlock s.End))))) s.NoBlock)) s.End) s.NoBlock)) s.End)))))))) ≡ Accepted
unfolding computing
random_825 = refl

random_826 : body_verdict (record { predicates = ([]); specs = ((record { is_void = true; name = name_f; params = (name_n0 ∷ name_u1 ∷ []); vars = ((name_a0, sort.Int) ∷ (name_b1, sort.Int) ∷ []); pre = (record { opened = []; facts = ((Rel relation.Le (Number (pos 1)) (Var 0 sort.Int)) ∷ (Rel relation.Le (Var 0 sort.Int) (Number (pos 5))) ∷ (Rel relation.Le (Number (pos 0)) (Var 1 sort.Int)) ∷ (Rel relation.Le (Var 1 sort.Int) (Number (pos 31))) ∷ []); locals = ((name_n0, (Of unary.Vi (Var 0 sort.Int))) ∷ (name_u1, (Of unary.Vi (Var 1 sort.Int))) ∷ []); items = ([]) }); post = (record { opened = []; facts = ([]); locals = []; items = ([]) }) }) ∷ (record { is_void = false; name = name_main; params = ([]); vars = []; pre = (record { opened = []; facts = ([]); locals = []; items = ([]) }); post = (record { opened = []; facts = ((Rel relation.Eq (Var 0 sort.Val) (Of unary.Vi (Number (pos 0)))) ∷ []); locals = []; items = ([]) }) }) ∷ []) }) (record { is_void = false; name = name_main; params = ([]); vars = []; pre = (record { opened = []; facts = ([]); locals = []; items = ([]) }); post = (record { opened = []; facts = ((Rel relation.Eq (Var 0 sort.Val) (Of unary.Vi (Number (pos 0)))) ∷ []); locals = []; items = ([]) }) }) (record { temps = ([]); body = (c.Then (c.Return (Some (c.Const 0))) c.End) }) (s.Then 1 (s.Return ([]) ([]) ([])) s.NoBlock s.End) ≡ Accepted
unfolding computing
random_826 = refl

random_827 : body_verdict (record { predicates = ([]); specs = ((record { is_void = true; name = name_f; params = (name_n0 ∷ name_u1 ∷ []); vars = ((name_a0, sort.Int) ∷ (name_b1, sort.Int) ∷ []); pre = (record { opened = []; facts = ((Rel relation.Le (Number (pos 1)) (Var 0 sort.Int)) ∷ (Rel relation.Le (Var 0 sort.Int) (Number (pos 9))) ∷ (Rel relation.Le (Number (pos 0)) (Var 1 sort.Int)) ∷ (Rel relation.Le (Var 1 sort.Int) (Number (pos 31))) ∷ []); locals = ((name_n0, (Of unary.Vi (Var 0 sort.Int))) ∷ (name_u1, (Of unary.Vi (Var 1 sort.Int))) ∷ []); items = ([]) }); post = (record { opened = []; facts = ([]); locals = []; items = ([]) }) }) ∷ (record { is_void = false; name = name_main; params = ([]); vars = []; pre = (record { opened = []; facts = ([]); locals = []; items = ([]) }); post = (record { opened = []; facts = ((Rel relation.Eq (Var 0 sort.Val) (Of unary.Vi (Number (pos 0)))) ∷ []); locals = []; items = ([]) }) }) ∷ []) }) (record { is_void = true; name = name_f; params = (name_n0 ∷ name_u1 ∷ []); vars = ((name_a0, sort.Int) ∷ (name_b1, sort.Int) ∷ []); pre = (record { opened = []; facts = ((Rel relation.Le (Number (pos 1)) (Var 0 sort.Int)) ∷ (Rel relation.Le (Var 0 sort.Int) (Number (pos 9))) ∷ (Rel relation.Le (Number (pos 0)) (Var 1 sort.Int)) ∷ (Rel relation.Le (Var 1 sort.Int) (Number (pos 31))) ∷ []); locals = ((name_n0, (Of unary.Vi (Var 0 sort.Int))) ∷ (name_u1, (Of unary.Vi (Var 1 sort.Int))) ∷ []); items = ([]) }); post = (record { opened = []; facts = ([]); locals = []; items = ([]) }) }) (record { temps = (name_n0 ∷ name_u1 ∷ name_s ∷ name_t ∷ name_i ∷ name_x1 ∷ name_d0 ∷ name_p1 ∷ name_q1 ∷ []); body = (c.Then (c.Set 3 (c.Const 1)) (c.Then (c.Set 2 (c.Binary two.Div kind.Signed (c.Const 1) (c.Const 2))) (c.Then (c.Set 5 (c.Const 0)) (c.Then (c.Set 4 (c.Const 0)) (c.Then (c.Loop (c.Then (c.If (c.Nonzero kind.Signed (c.Binary two.Lt kind.Signed (c.Temp 4) (c.Const 3))) (c.Then (c.Set 5 (c.Binary two.Add kind.Unsigned (c.Temp 5) (c.Const 2))) (c.Then (c.Set 4 (c.Binary two.Add kind.Signed (c.Temp 4) (c.Const 1))) (c.Then c.Continue c.End))) (c.Then c.Break c.End)) c.End)) (c.Then (c.Set 2 (c.Temp 3)) (c.Then (c.Set 2 (c.Binary two.Eq kind.Signed (c.Const 1) (c.Const 1))) (c.Then (c.Malloc 7 3) (c.Then (c.If (c.Pointers (c.Temp 7) (c.Const 0) true) (c.Then (c.Return None) c.End) c.End) (c.Then (c.Store (root.Temp 7) (c.Offset 0 c.Here) (c.Const 2)) (c.Then (c.Load 3 (root.Temp 7) (c.Offset 0 c.Here)) (c.Then (c.Free (c.Temp 7)) (c.Then (c.Set 5 (c.Binary two.Rem kind.Unsigned (c.Binary two.Mul kind.Unsigned (c.Const 1) (c.Const 1)) (c.Binary two.Add kind.Unsigned (c.Const 4294967295) (c.Const 3)))) (c.Then (c.Return None) c.End)))))))))))))) }) (s.Then 1 (s.Set ([]) ([])) s.NoBlock (s.Then 2 (s.Set ([]) ([])) s.NoBlock (s.Then 3 (s.Set ([]) ([])) s.NoBlock (s.Then 4 (s.Set ([]) ([])) s.NoBlock (s.Then 5 (s.While (record { opened = (sort.Int ∷ sort.Int ∷ []); facts = ((Rel relation.Le (Number (pos 0)) (Var 0 sort.Int)) ∷ (Rel relation.Le (Var 0 sort.Int) (Number (pos 3))) ∷ []); locals = ((name_n0, (Of unary.Vi (Named name_a0))) ∷ (name_u1, (Of unary.Vi (Named name_b1))) ∷ (name_s, (Of unary.Vi (Number (pos 0)))) ∷ (name_t, (Of unary.Vi (Number (pos 1)))) ∷ (name_i, (Of unary.Vi (Var 0 sort.Int))) ∷ (name_x1, (Of unary.Vi (Var 1 sort.Int))) ∷ []); items = ([]) }) (record { opened = (sort.Int ∷ sort.Int ∷ []); facts = ((Rel relation.Le (Number (pos 0)) (Var 0 sort.Int)) ∷ (Rel relation.Le (Var 0 sort.Int) (Number (pos 3))) ∷ (Rel relation.Le (Number (pos 3)) (Var 0 sort.Int)) ∷ []); locals = ((name_n0, (Of unary.Vi (Named name_a0))) ∷ (name_u1, (Of unary.Vi (Named name_b1))) ∷ (name_s, (Of unary.Vi (Number (pos 0)))) ∷ (name_t, (Of unary.Vi (Number (pos 1)))) ∷ (name_i, (Of unary.Vi (Var 0 sort.Int))) ∷ (name_x1, (Of unary.Vi (Var 1 sort.Int))) ∷ []); items = ([]) }) (name_k3 ∷ name_k4 ∷ []) ([]) (name_k1 ∷ name_k2 ∷ [])) (s.WithBlock (s.Then 6 (s.Meet ((Number (pos 0)) ∷ (Number (pos 0)) ∷ []) ([])) s.NoBlock s.End) (s.WithBlock (s.Then 7 (s.If ([]) ((record { lines = ((line.Comb (((pos 1), 4) ∷ ((pos 1), 6) ∷ [])) ∷ []) }) ∷ (record { lines = ((line.Comb (((pos 1), 5) ∷ ((pos 1), 6) ∷ [])) ∷ []) }) ∷ []) ([]) ([])) (s.WithBlock (s.Then 8 (s.Set ([]) ([])) s.NoBlock (s.Then 9 (s.Set ([]) ((record { lines = ((line.Comb (((pos 1), 4) ∷ ((pos 1), 7) ∷ [])) ∷ []) }) ∷ (record { lines = ((line.Comb (((pos 1), 5) ∷ ((pos 1), 7) ∷ [])) ∷ []) }) ∷ (record { lines = ((line.Comb (((pos 1), 4) ∷ ((pos 1), 7) ∷ [])) ∷ []) }) ∷ (record { lines = ((line.Comb (((pos 1), 5) ∷ ((pos 1), 7) ∷ [])) ∷ []) }) ∷ [])) s.NoBlock (s.Then 10 (s.Continue ((Of2 binary.Add (Named name_k1) (Number (pos 1))) ∷ (Of2 binary.Add (Named name_k2) (Number (pos 2))) ∷ []) ((record { lines = ((line.Comb (((pos 1), 4) ∷ ((pos 1), 7) ∷ [])) ∷ []) }) ∷ [])) s.NoBlock s.End))) (s.WithBlock s.End s.NoBlock)) s.End) s.NoBlock)) (s.Then 11 (s.Set ([]) ([])) s.NoBlock (s.Then 12 (s.Set ([]) ([])) s.NoBlock (s.Then 13 (s.Malloc name_k5 ([]) ([])) (s.WithBlock (s.Then 14 (s.If ([]) ([]) ([]) ([])) (s.WithBlock (s.Then 15 (s.Return ([]) ([]) ([])) s.NoBlock s.End) (s.WithBlock (s.Then 16 (s.Absurd ([])) s.NoBlock s.End) s.NoBlock)) s.End) (s.WithBlock (s.Then 17 (s.If (0 ∷ []) ([]) ([]) ([])) (s.WithBlock (s.Then 18 (s.Subst name_k5) s.NoBlock (s.Then 19 (s.Absurd ([])) s.NoBlock s.End)) (s.WithBlock (s.Then 20 (s.Store 0 ([]) ([])) s.NoBlock (s.Then 21 (s.Load 0 ([]) ([])) s.NoBlock (s.Then 22 (s.Free 0 1 ([])) s.NoBlock (s.Then 23 (s.Set ([]) ([])) s.NoBlock (s.Then 24 (s.Return ([]) ([]) ([])) s.NoBlock s.End))))) s.NoBlock)) s.End) s.NoBlock)) s.End)))))))) ≡ (RefusedAt 11 0 10)
unfolding computing
random_827 = refl

random_828 : body_verdict (record { predicates = ([]); specs = ((record { is_void = true; name = name_f; params = (name_n0 ∷ name_u1 ∷ []); vars = ((name_a0, sort.Int) ∷ (name_b1, sort.Int) ∷ []); pre = (record { opened = []; facts = ((Rel relation.Le (Number (pos 1)) (Var 0 sort.Int)) ∷ (Rel relation.Le (Var 0 sort.Int) (Number (pos 9))) ∷ (Rel relation.Le (Number (pos 0)) (Var 1 sort.Int)) ∷ (Rel relation.Le (Var 1 sort.Int) (Number (pos 31))) ∷ []); locals = ((name_n0, (Of unary.Vi (Var 0 sort.Int))) ∷ (name_u1, (Of unary.Vi (Var 1 sort.Int))) ∷ []); items = ([]) }); post = (record { opened = []; facts = ([]); locals = []; items = ([]) }) }) ∷ (record { is_void = false; name = name_main; params = ([]); vars = []; pre = (record { opened = []; facts = ([]); locals = []; items = ([]) }); post = (record { opened = []; facts = ((Rel relation.Eq (Var 0 sort.Val) (Of unary.Vi (Number (pos 0)))) ∷ []); locals = []; items = ([]) }) }) ∷ []) }) (record { is_void = true; name = name_f; params = (name_n0 ∷ name_u1 ∷ []); vars = ((name_a0, sort.Int) ∷ (name_b1, sort.Int) ∷ []); pre = (record { opened = []; facts = ((Rel relation.Le (Number (pos 1)) (Var 0 sort.Int)) ∷ (Rel relation.Le (Var 0 sort.Int) (Number (pos 9))) ∷ (Rel relation.Le (Number (pos 0)) (Var 1 sort.Int)) ∷ (Rel relation.Le (Var 1 sort.Int) (Number (pos 31))) ∷ []); locals = ((name_n0, (Of unary.Vi (Var 0 sort.Int))) ∷ (name_u1, (Of unary.Vi (Var 1 sort.Int))) ∷ []); items = ([]) }); post = (record { opened = []; facts = ([]); locals = []; items = ([]) }) }) (record { temps = (name_n0 ∷ name_u1 ∷ name_s ∷ name_t ∷ name_i ∷ name_x1 ∷ name_d0 ∷ name_p1 ∷ name_q1 ∷ []); body = (c.Then (c.Set 3 (c.Const 1)) (c.Then (c.Set 2 (c.Binary two.Div kind.Signed (c.Const 1) (c.Const 2))) (c.Then (c.Set 5 (c.Const 0)) (c.Then (c.Set 4 (c.Const 0)) (c.Then (c.Loop (c.Then (c.If (c.Nonzero kind.Signed (c.Binary two.Lt kind.Signed (c.Temp 4) (c.Const 3))) (c.Then (c.Set 5 (c.Binary two.Add kind.Unsigned (c.Temp 5) (c.Const 2))) (c.Then (c.Set 4 (c.Binary two.Add kind.Signed (c.Temp 4) (c.Const 1))) (c.Then c.Continue c.End))) (c.Then c.Break c.End)) c.End)) (c.Then (c.Set 2 (c.Temp 3)) (c.Then (c.Set 2 (c.Binary two.Eq kind.Signed (c.Const 1) (c.Const 1))) (c.Then (c.Malloc 7 3) (c.Then (c.If (c.Pointers (c.Temp 7) (c.Const 0) true) (c.Then (c.Return None) c.End) c.End) (c.Then (c.Store (root.Temp 7) (c.Offset 0 c.Here) (c.Const 2)) (c.Then (c.Load 3 (root.Temp 7) (c.Offset 0 c.Here)) (c.Then (c.Free (c.Temp 7)) (c.Then (c.Set 5 (c.Binary two.Rem kind.Unsigned (c.Binary two.Mul kind.Unsigned (c.Const 1) (c.Const 1)) (c.Binary two.Add kind.Unsigned (c.Const 4294967295) (c.Const 3)))) (c.Then (c.Return None) c.End)))))))))))))) }) (s.Then 1 (s.Set ([]) ([])) s.NoBlock (s.Then 2 (s.Set ([]) ([])) s.NoBlock (s.Then 3 (s.Set ([]) ([])) s.NoBlock (s.Then 4 (s.While (record { opened = (sort.Int ∷ sort.Int ∷ []); facts = ((Rel relation.Le (Number (pos 0)) (Var 0 sort.Int)) ∷ (Rel relation.Le (Var 0 sort.Int) (Number (pos 3))) ∷ []); locals = ((name_n0, (Of unary.Vi (Named name_a0))) ∷ (name_u1, (Of unary.Vi (Named name_b1))) ∷ (name_s, (Of unary.Vi (Number (pos 0)))) ∷ (name_t, (Of unary.Vi (Number (pos 1)))) ∷ (name_i, (Of unary.Vi (Var 0 sort.Int))) ∷ (name_x1, (Of unary.Vi (Var 1 sort.Int))) ∷ []); items = ([]) }) (record { opened = (sort.Int ∷ sort.Int ∷ []); facts = ((Rel relation.Le (Number (pos 0)) (Var 0 sort.Int)) ∷ (Rel relation.Le (Var 0 sort.Int) (Number (pos 3))) ∷ (Rel relation.Le (Number (pos 3)) (Var 0 sort.Int)) ∷ []); locals = ((name_n0, (Of unary.Vi (Named name_a0))) ∷ (name_u1, (Of unary.Vi (Named name_b1))) ∷ (name_s, (Of unary.Vi (Number (pos 0)))) ∷ (name_t, (Of unary.Vi (Number (pos 1)))) ∷ (name_i, (Of unary.Vi (Var 0 sort.Int))) ∷ (name_x1, (Of unary.Vi (Var 1 sort.Int))) ∷ []); items = ([]) }) (name_k3 ∷ name_k4 ∷ []) ([]) (name_k1 ∷ name_k2 ∷ [])) (s.WithBlock (s.Then 5 (s.Meet ((Number (pos 0)) ∷ (Number (pos 0)) ∷ []) ([])) s.NoBlock s.End) (s.WithBlock (s.Then 6 (s.If ([]) ((record { lines = ((line.Comb (((pos 1), 4) ∷ ((pos 1), 6) ∷ [])) ∷ []) }) ∷ (record { lines = ((line.Comb (((pos 1), 5) ∷ ((pos 1), 6) ∷ [])) ∷ []) }) ∷ []) ([]) ([])) (s.WithBlock (s.Then 7 (s.Set ([]) ([])) s.NoBlock (s.Then 8 (s.Set ([]) ((record { lines = ((line.Comb (((pos 1), 4) ∷ ((pos 1), 7) ∷ [])) ∷ []) }) ∷ (record { lines = ((line.Comb (((pos 1), 5) ∷ ((pos 1), 7) ∷ [])) ∷ []) }) ∷ (record { lines = ((line.Comb (((pos 1), 4) ∷ ((pos 1), 7) ∷ [])) ∷ []) }) ∷ (record { lines = ((line.Comb (((pos 1), 5) ∷ ((pos 1), 7) ∷ [])) ∷ []) }) ∷ [])) s.NoBlock (s.Then 9 (s.Continue ((Of2 binary.Add (Named name_k1) (Number (pos 1))) ∷ (Of2 binary.Add (Named name_k2) (Number (pos 2))) ∷ []) ((record { lines = ((line.Comb (((pos 1), 4) ∷ ((pos 1), 7) ∷ [])) ∷ []) }) ∷ [])) s.NoBlock s.End))) (s.WithBlock (s.Then 10 (s.Break ((Named name_k1) ∷ (Named name_k2) ∷ []) ([])) s.NoBlock s.End) s.NoBlock)) s.End) s.NoBlock)) (s.Then 11 (s.Set ([]) ([])) s.NoBlock (s.Then 12 (s.Set ([]) ([])) s.NoBlock (s.Then 13 (s.Malloc name_k5 ([]) ([])) (s.WithBlock (s.Then 14 (s.If ([]) ([]) ([]) ([])) (s.WithBlock (s.Then 15 (s.Return ([]) ([]) ([])) s.NoBlock s.End) (s.WithBlock (s.Then 16 (s.Absurd ([])) s.NoBlock s.End) s.NoBlock)) s.End) (s.WithBlock (s.Then 17 (s.If (0 ∷ []) ([]) ([]) ([])) (s.WithBlock (s.Then 18 (s.Subst name_k5) s.NoBlock (s.Then 19 (s.Absurd ([])) s.NoBlock s.End)) (s.WithBlock (s.Then 20 (s.Store 0 ([]) ([])) s.NoBlock (s.Then 21 (s.Load 0 ([]) ([])) s.NoBlock (s.Then 22 (s.Free 0 1 ([])) s.NoBlock (s.Then 23 (s.Set ([]) ([])) s.NoBlock (s.Then 24 (s.Return ([]) ([]) ([])) s.NoBlock s.End))))) s.NoBlock)) s.End) s.NoBlock)) s.End))))))) ≡ (RefusedAt 4 6 1)
unfolding computing
random_828 = refl

random_829 : body_verdict (record { predicates = ([]); specs = ((record { is_void = true; name = name_f; params = (name_n0 ∷ name_u1 ∷ []); vars = ((name_a0, sort.Int) ∷ (name_b1, sort.Int) ∷ []); pre = (record { opened = []; facts = ((Rel relation.Le (Number (pos 1)) (Var 0 sort.Int)) ∷ (Rel relation.Le (Var 0 sort.Int) (Number (pos 9))) ∷ (Rel relation.Le (Number (pos 0)) (Var 1 sort.Int)) ∷ (Rel relation.Le (Var 1 sort.Int) (Number (pos 31))) ∷ []); locals = ((name_n0, (Of unary.Vi (Var 0 sort.Int))) ∷ (name_u1, (Of unary.Vi (Var 1 sort.Int))) ∷ []); items = ([]) }); post = (record { opened = []; facts = ([]); locals = []; items = ([]) }) }) ∷ (record { is_void = false; name = name_main; params = ([]); vars = []; pre = (record { opened = []; facts = ([]); locals = []; items = ([]) }); post = (record { opened = []; facts = ((Rel relation.Eq (Var 0 sort.Val) (Of unary.Vi (Number (pos 0)))) ∷ []); locals = []; items = ([]) }) }) ∷ []) }) (record { is_void = true; name = name_f; params = (name_n0 ∷ name_u1 ∷ []); vars = ((name_a0, sort.Int) ∷ (name_b1, sort.Int) ∷ []); pre = (record { opened = []; facts = ((Rel relation.Le (Number (pos 1)) (Var 0 sort.Int)) ∷ (Rel relation.Le (Var 0 sort.Int) (Number (pos 9))) ∷ (Rel relation.Le (Number (pos 0)) (Var 1 sort.Int)) ∷ (Rel relation.Le (Var 1 sort.Int) (Number (pos 31))) ∷ []); locals = ((name_n0, (Of unary.Vi (Var 0 sort.Int))) ∷ (name_u1, (Of unary.Vi (Var 1 sort.Int))) ∷ []); items = ([]) }); post = (record { opened = []; facts = ([]); locals = []; items = ([]) }) }) (record { temps = (name_n0 ∷ name_u1 ∷ name_s ∷ name_t ∷ name_i ∷ name_x1 ∷ name_d0 ∷ name_p1 ∷ name_q1 ∷ []); body = (c.Then (c.Set 3 (c.Const 1)) (c.Then (c.Set 2 (c.Binary two.Div kind.Signed (c.Const 1) (c.Const 2))) (c.Then (c.Set 5 (c.Const 0)) (c.Then (c.Set 4 (c.Const 0)) (c.Then (c.Loop (c.Then (c.If (c.Nonzero kind.Signed (c.Binary two.Lt kind.Signed (c.Temp 4) (c.Const 3))) (c.Then (c.Set 5 (c.Binary two.Add kind.Unsigned (c.Temp 5) (c.Const 2))) (c.Then (c.Set 4 (c.Binary two.Add kind.Signed (c.Temp 4) (c.Const 1))) (c.Then c.Continue c.End))) (c.Then c.Break c.End)) c.End)) (c.Then (c.Set 2 (c.Temp 3)) (c.Then (c.Set 2 (c.Binary two.Eq kind.Signed (c.Const 1) (c.Const 1))) (c.Then (c.Malloc 7 3) (c.Then (c.If (c.Pointers (c.Temp 7) (c.Const 0) true) (c.Then (c.Return None) c.End) c.End) (c.Then (c.Store (root.Temp 7) (c.Offset 0 c.Here) (c.Const 2)) (c.Then (c.Load 3 (root.Temp 7) (c.Offset 0 c.Here)) (c.Then (c.Free (c.Temp 7)) (c.Then (c.Set 5 (c.Binary two.Rem kind.Unsigned (c.Binary two.Mul kind.Unsigned (c.Const 1) (c.Const 1)) (c.Binary two.Add kind.Unsigned (c.Const 4294967295) (c.Const 3)))) (c.Then (c.Return None) c.End)))))))))))))) }) (s.Then 1 (s.Set ([]) ([])) s.NoBlock (s.Then 2 (s.Set ([]) ([])) s.NoBlock (s.Then 3 (s.Set ([]) ([])) s.NoBlock (s.Then 4 (s.Set ([]) ([])) s.NoBlock (s.Then 5 (s.While (record { opened = (sort.Int ∷ sort.Int ∷ []); facts = ((Rel relation.Le (Number (pos 0)) (Var 0 sort.Int)) ∷ (Rel relation.Le (Var 0 sort.Int) (Number (pos 3))) ∷ []); locals = ((name_n0, (Of unary.Vi (Named name_a0))) ∷ (name_u1, (Of unary.Vi (Named name_b1))) ∷ (name_s, (Of unary.Vi (Number (pos 0)))) ∷ (name_t, (Of unary.Vi (Number (pos 1)))) ∷ (name_i, (Of unary.Vi (Var 0 sort.Int))) ∷ (name_x1, (Of unary.Vi (Var 1 sort.Int))) ∷ []); items = ([]) }) (record { opened = (sort.Int ∷ sort.Int ∷ []); facts = ((Rel relation.Le (Number (pos 0)) (Var 0 sort.Int)) ∷ (Rel relation.Le (Var 0 sort.Int) (Number (pos 3))) ∷ (Rel relation.Le (Number (pos 3)) (Var 0 sort.Int)) ∷ []); locals = ((name_n0, (Of unary.Vi (Named name_a0))) ∷ (name_u1, (Of unary.Vi (Named name_b1))) ∷ (name_s, (Of unary.Vi (Number (pos 0)))) ∷ (name_t, (Of unary.Vi (Number (pos 1)))) ∷ (name_i, (Of unary.Vi (Var 0 sort.Int))) ∷ (name_x1, (Of unary.Vi (Var 1 sort.Int))) ∷ []); items = ([]) }) (name_k3 ∷ name_k4 ∷ []) ([]) (name_k1 ∷ name_k2 ∷ [])) (s.WithBlock (s.Then 6 (s.Meet ((Number (pos 0)) ∷ (Number (pos 0)) ∷ []) ([])) s.NoBlock s.End) (s.WithBlock (s.Then 7 (s.If ([]) ((record { lines = ((line.Comb (((pos 1), 4) ∷ ((pos 1), 6) ∷ [])) ∷ []) }) ∷ (record { lines = ((line.Comb (((pos 1), 5) ∷ ((pos 1), 6) ∷ [])) ∷ []) }) ∷ []) ([]) ([])) (s.WithBlock (s.Then 8 (s.Set ([]) ([])) s.NoBlock (s.Then 9 (s.Set ([]) ((record { lines = ((line.Comb (((pos 1), 4) ∷ ((pos 1), 7) ∷ [])) ∷ []) }) ∷ (record { lines = ((line.Comb (((pos 1), 5) ∷ ((pos 1), 7) ∷ [])) ∷ []) }) ∷ (record { lines = ((line.Comb (((pos 1), 4) ∷ ((pos 1), 7) ∷ [])) ∷ []) }) ∷ (record { lines = ((line.Comb (((pos 1), 5) ∷ ((pos 1), 7) ∷ [])) ∷ []) }) ∷ [])) s.NoBlock (s.Then 10 (s.Continue ((Of2 binary.Add (Named name_k1) (Number (pos 1))) ∷ (Of2 binary.Add (Named name_k2) (Number (pos 2))) ∷ []) ((record { lines = ((line.Comb (((pos 1), 4) ∷ ((pos 1), 7) ∷ [])) ∷ []) }) ∷ [])) s.NoBlock s.End))) (s.WithBlock (s.Then 11 (s.Break ((Named name_k1) ∷ (Named name_k2) ∷ []) ([])) s.NoBlock s.End) s.NoBlock)) s.End) s.NoBlock)) (s.Then 12 (s.Bounds 0 None ([])) s.NoBlock (s.Then 13 (s.Set ([]) ([])) s.NoBlock (s.Then 14 (s.Set ([]) ([])) s.NoBlock (s.Then 15 (s.Malloc name_k5 ([]) ([])) (s.WithBlock (s.Then 16 (s.If ([]) ([]) ([]) ([])) (s.WithBlock (s.Then 17 (s.Return ([]) ([]) ([])) s.NoBlock s.End) (s.WithBlock (s.Then 18 (s.Absurd ([])) s.NoBlock s.End) s.NoBlock)) s.End) (s.WithBlock (s.Then 19 (s.If (0 ∷ []) ([]) ([]) ([])) (s.WithBlock (s.Then 20 (s.Subst name_k5) s.NoBlock (s.Then 21 (s.Absurd ([])) s.NoBlock s.End)) (s.WithBlock (s.Then 22 (s.Store 0 ([]) ([])) s.NoBlock (s.Then 23 (s.Load 0 ([]) ([])) s.NoBlock (s.Then 24 (s.Free 0 1 ([])) s.NoBlock (s.Then 25 (s.Set ([]) ([])) s.NoBlock (s.Then 26 (s.Return ([]) ([]) ([])) s.NoBlock s.End))))) s.NoBlock)) s.End) s.NoBlock)) s.End))))))))) ≡ (RefusedAt 12 34 1)
unfolding computing
random_829 = refl

random_830 : body_verdict (record { predicates = ([]); specs = ((record { is_void = true; name = name_f; params = (name_n0 ∷ name_u1 ∷ []); vars = ((name_a0, sort.Int) ∷ (name_b1, sort.Int) ∷ []); pre = (record { opened = []; facts = ((Rel relation.Le (Number (pos 1)) (Var 0 sort.Int)) ∷ (Rel relation.Le (Var 0 sort.Int) (Number (pos 9))) ∷ (Rel relation.Le (Number (pos 0)) (Var 1 sort.Int)) ∷ (Rel relation.Le (Var 1 sort.Int) (Number (pos 31))) ∷ []); locals = ((name_n0, (Of unary.Vi (Var 0 sort.Int))) ∷ (name_u1, (Of unary.Vi (Var 1 sort.Int))) ∷ []); items = ([]) }); post = (record { opened = []; facts = ([]); locals = []; items = ([]) }) }) ∷ (record { is_void = false; name = name_main; params = ([]); vars = []; pre = (record { opened = []; facts = ([]); locals = []; items = ([]) }); post = (record { opened = []; facts = ((Rel relation.Eq (Var 0 sort.Val) (Of unary.Vi (Number (pos 0)))) ∷ []); locals = []; items = ([]) }) }) ∷ []) }) (record { is_void = true; name = name_f; params = (name_n0 ∷ name_u1 ∷ []); vars = ((name_a0, sort.Int) ∷ (name_b1, sort.Int) ∷ []); pre = (record { opened = []; facts = ((Rel relation.Le (Number (pos 1)) (Var 0 sort.Int)) ∷ (Rel relation.Le (Var 0 sort.Int) (Number (pos 9))) ∷ (Rel relation.Le (Number (pos 0)) (Var 1 sort.Int)) ∷ (Rel relation.Le (Var 1 sort.Int) (Number (pos 31))) ∷ []); locals = ((name_n0, (Of unary.Vi (Var 0 sort.Int))) ∷ (name_u1, (Of unary.Vi (Var 1 sort.Int))) ∷ []); items = ([]) }); post = (record { opened = []; facts = ([]); locals = []; items = ([]) }) }) (record { temps = (name_n0 ∷ name_u1 ∷ name_s ∷ name_t ∷ name_i ∷ name_x1 ∷ name_d0 ∷ name_p1 ∷ name_q1 ∷ []); body = (c.Then (c.Set 3 (c.Const 1)) (c.Then (c.Set 2 (c.Binary two.Div kind.Signed (c.Const 1) (c.Const 2))) (c.Then (c.Set 5 (c.Const 0)) (c.Then (c.Set 4 (c.Const 0)) (c.Then (c.Loop (c.Then (c.If (c.Nonzero kind.Signed (c.Binary two.Lt kind.Signed (c.Temp 4) (c.Const 3))) (c.Then (c.Set 5 (c.Binary two.Add kind.Unsigned (c.Temp 5) (c.Const 2))) (c.Then (c.Set 4 (c.Binary two.Add kind.Signed (c.Temp 4) (c.Const 1))) (c.Then c.Continue c.End))) (c.Then c.Break c.End)) c.End)) (c.Then (c.Set 2 (c.Temp 3)) (c.Then (c.Set 2 (c.Binary two.Eq kind.Signed (c.Const 1) (c.Const 1))) (c.Then (c.Malloc 7 3) (c.Then (c.If (c.Pointers (c.Temp 7) (c.Const 0) true) (c.Then (c.Return None) c.End) c.End) (c.Then (c.Store (root.Temp 7) (c.Offset 0 c.Here) (c.Const 2)) (c.Then (c.Load 3 (root.Temp 7) (c.Offset 0 c.Here)) (c.Then (c.Free (c.Temp 7)) (c.Then (c.Set 5 (c.Binary two.Rem kind.Unsigned (c.Binary two.Mul kind.Unsigned (c.Const 1) (c.Const 1)) (c.Binary two.Add kind.Unsigned (c.Const 4294967295) (c.Const 3)))) (c.Then (c.Return None) c.End)))))))))))))) }) (s.Then 1 (s.Set ([]) ([])) s.NoBlock (s.Then 2 (s.Set ([]) ([])) s.NoBlock (s.Then 3 (s.Set ([]) ([])) s.NoBlock (s.Then 4 (s.Set ([]) ([])) s.NoBlock (s.Then 5 (s.While (record { opened = (sort.Int ∷ sort.Int ∷ []); facts = ((Rel relation.Le (Number (pos 0)) (Var 0 sort.Int)) ∷ (Rel relation.Le (Var 0 sort.Int) (Number (pos 3))) ∷ []); locals = ((name_n0, (Of unary.Vi (Named name_a0))) ∷ (name_u1, (Of unary.Vi (Named name_b1))) ∷ (name_s, (Of unary.Vi (Number (pos 0)))) ∷ (name_t, (Of unary.Vi (Number (pos 1)))) ∷ (name_i, (Of unary.Vi (Var 0 sort.Int))) ∷ (name_x1, (Of unary.Vi (Var 1 sort.Int))) ∷ []); items = ([]) }) (record { opened = (sort.Int ∷ sort.Int ∷ []); facts = ((Rel relation.Le (Number (pos 0)) (Var 0 sort.Int)) ∷ (Rel relation.Le (Var 0 sort.Int) (Number (pos 3))) ∷ (Rel relation.Le (Number (pos 3)) (Var 0 sort.Int)) ∷ []); locals = ((name_n0, (Of unary.Vi (Named name_a0))) ∷ (name_u1, (Of unary.Vi (Named name_b1))) ∷ (name_s, (Of unary.Vi (Number (pos 0)))) ∷ (name_t, (Of unary.Vi (Number (pos 1)))) ∷ (name_i, (Of unary.Vi (Var 0 sort.Int))) ∷ (name_x1, (Of unary.Vi (Var 1 sort.Int))) ∷ []); items = ([]) }) (name_i0 ∷ name_k4 ∷ []) ([]) (name_k1 ∷ name_k2 ∷ [])) (s.WithBlock (s.Then 6 (s.Meet ((Number (pos 0)) ∷ (Number (pos 0)) ∷ []) ([])) s.NoBlock s.End) (s.WithBlock (s.Then 7 (s.If ([]) ((record { lines = ((line.Comb (((pos 1), 4) ∷ ((pos 1), 6) ∷ [])) ∷ []) }) ∷ (record { lines = ((line.Comb (((pos 1), 5) ∷ ((pos 1), 6) ∷ [])) ∷ []) }) ∷ []) ([]) ([])) (s.WithBlock (s.Then 8 (s.Set ([]) ([])) s.NoBlock (s.Then 9 (s.Set ([]) ((record { lines = ((line.Comb (((pos 1), 4) ∷ ((pos 1), 7) ∷ [])) ∷ []) }) ∷ (record { lines = ((line.Comb (((pos 1), 5) ∷ ((pos 1), 7) ∷ [])) ∷ []) }) ∷ (record { lines = ((line.Comb (((pos 1), 4) ∷ ((pos 1), 7) ∷ [])) ∷ []) }) ∷ (record { lines = ((line.Comb (((pos 1), 5) ∷ ((pos 1), 7) ∷ [])) ∷ []) }) ∷ [])) s.NoBlock (s.Then 10 (s.Continue ((Of2 binary.Add (Named name_k1) (Number (pos 1))) ∷ (Of2 binary.Add (Named name_k2) (Number (pos 2))) ∷ []) ((record { lines = ((line.Comb (((pos 1), 4) ∷ ((pos 1), 7) ∷ [])) ∷ []) }) ∷ [])) s.NoBlock s.End))) (s.WithBlock (s.Then 11 (s.Break ((Named name_k1) ∷ (Named name_k2) ∷ []) ([])) s.NoBlock s.End) s.NoBlock)) s.End) s.NoBlock)) (s.Then 12 (s.Set ([]) ([])) s.NoBlock (s.Then 13 (s.Set ([]) ([])) s.NoBlock (s.Then 14 (s.Malloc name_k5 ([]) ([])) (s.WithBlock (s.Then 15 (s.If ([]) ([]) ([]) ([])) (s.WithBlock (s.Then 16 (s.Return ([]) ([]) ([])) s.NoBlock s.End) (s.WithBlock (s.Then 17 (s.Absurd ([])) s.NoBlock s.End) s.NoBlock)) s.End) (s.WithBlock (s.Then 18 (s.If (0 ∷ []) ([]) ([]) ([])) (s.WithBlock (s.Then 19 (s.Subst name_k5) s.NoBlock (s.Then 20 (s.Absurd ([])) s.NoBlock s.End)) (s.WithBlock (s.Then 21 (s.Store 0 ([]) ([])) s.NoBlock (s.Then 22 (s.Load 0 ([]) ([])) s.NoBlock (s.Then 23 (s.Free 0 1 ([])) s.NoBlock (s.Then 24 (s.Set ([]) ([])) s.NoBlock (s.Then 25 (s.Return ([]) ([]) ([])) s.NoBlock s.End))))) s.NoBlock)) s.End) s.NoBlock)) s.End)))))))) ≡ Accepted
unfolding computing
random_830 = refl

random_831 : body_verdict (record { predicates = ([]); specs = ((record { is_void = true; name = name_f; params = (name_n0 ∷ name_u1 ∷ []); vars = ((name_a0, sort.Int) ∷ (name_b1, sort.Int) ∷ []); pre = (record { opened = []; facts = ((Rel relation.Le (Number (pos 1)) (Var 0 sort.Int)) ∷ (Rel relation.Le (Var 0 sort.Int) (Number (pos 9))) ∷ (Rel relation.Le (Number (pos 0)) (Var 1 sort.Int)) ∷ (Rel relation.Le (Var 1 sort.Int) (Number (pos 31))) ∷ []); locals = ((name_n0, (Of unary.Vi (Var 0 sort.Int))) ∷ (name_u1, (Of unary.Vi (Var 1 sort.Int))) ∷ []); items = ([]) }); post = (record { opened = []; facts = ([]); locals = []; items = ([]) }) }) ∷ (record { is_void = false; name = name_main; params = ([]); vars = []; pre = (record { opened = []; facts = ([]); locals = []; items = ([]) }); post = (record { opened = []; facts = ((Rel relation.Eq (Var 0 sort.Val) (Of unary.Vi (Number (pos 0)))) ∷ []); locals = []; items = ([]) }) }) ∷ []) }) (record { is_void = true; name = name_f; params = (name_n0 ∷ name_u1 ∷ []); vars = ((name_a0, sort.Int) ∷ (name_b1, sort.Int) ∷ []); pre = (record { opened = []; facts = ((Rel relation.Le (Number (pos 1)) (Var 0 sort.Int)) ∷ (Rel relation.Le (Var 0 sort.Int) (Number (pos 9))) ∷ (Rel relation.Le (Number (pos 0)) (Var 1 sort.Int)) ∷ (Rel relation.Le (Var 1 sort.Int) (Number (pos 31))) ∷ []); locals = ((name_n0, (Of unary.Vi (Var 0 sort.Int))) ∷ (name_u1, (Of unary.Vi (Var 1 sort.Int))) ∷ []); items = ([]) }); post = (record { opened = []; facts = ([]); locals = []; items = ([]) }) }) (record { temps = (name_n0 ∷ name_u1 ∷ name_s ∷ name_t ∷ name_i ∷ name_x1 ∷ name_d0 ∷ name_p1 ∷ name_q1 ∷ []); body = (c.Then (c.Set 3 (c.Const 1)) (c.Then (c.Set 2 (c.Binary two.Div kind.Signed (c.Const 1) (c.Const 2))) (c.Then (c.Set 5 (c.Const 0)) (c.Then (c.Set 4 (c.Const 0)) (c.Then (c.Loop (c.Then (c.If (c.Nonzero kind.Signed (c.Binary two.Lt kind.Signed (c.Temp 4) (c.Const 3))) (c.Then (c.Set 5 (c.Binary two.Add kind.Unsigned (c.Temp 5) (c.Const 2))) (c.Then (c.Set 4 (c.Binary two.Add kind.Signed (c.Temp 4) (c.Const 1))) (c.Then c.Continue c.End))) (c.Then c.Break c.End)) c.End)) (c.Then (c.Set 2 (c.Temp 3)) (c.Then (c.Set 2 (c.Binary two.Eq kind.Signed (c.Const 1) (c.Const 1))) (c.Then (c.Malloc 7 3) (c.Then (c.If (c.Pointers (c.Temp 7) (c.Const 0) true) (c.Then (c.Return None) c.End) c.End) (c.Then (c.Store (root.Temp 7) (c.Offset 0 c.Here) (c.Const 2)) (c.Then (c.Load 3 (root.Temp 7) (c.Offset 0 c.Here)) (c.Then (c.Free (c.Temp 7)) (c.Then (c.Set 5 (c.Binary two.Rem kind.Unsigned (c.Binary two.Mul kind.Unsigned (c.Const 5) (c.Const 1)) (c.Binary two.Add kind.Unsigned (c.Const 4294967295) (c.Const 3)))) (c.Then (c.Return None) c.End)))))))))))))) }) (s.Then 1 (s.Set ([]) ([])) s.NoBlock (s.Then 2 (s.Set ([]) ([])) s.NoBlock (s.Then 3 (s.Set ([]) ([])) s.NoBlock (s.Then 4 (s.Set ([]) ([])) s.NoBlock (s.Then 5 (s.While (record { opened = (sort.Int ∷ sort.Int ∷ []); facts = ((Rel relation.Le (Number (pos 0)) (Var 0 sort.Int)) ∷ (Rel relation.Le (Var 0 sort.Int) (Number (pos 3))) ∷ []); locals = ((name_n0, (Of unary.Vi (Named name_a0))) ∷ (name_u1, (Of unary.Vi (Named name_b1))) ∷ (name_s, (Of unary.Vi (Number (pos 0)))) ∷ (name_t, (Of unary.Vi (Number (pos 1)))) ∷ (name_i, (Of unary.Vi (Var 0 sort.Int))) ∷ (name_x1, (Of unary.Vi (Var 1 sort.Int))) ∷ []); items = ([]) }) (record { opened = (sort.Int ∷ sort.Int ∷ []); facts = ((Rel relation.Le (Number (pos 0)) (Var 0 sort.Int)) ∷ (Rel relation.Le (Var 0 sort.Int) (Number (pos 3))) ∷ (Rel relation.Le (Number (pos 3)) (Var 0 sort.Int)) ∷ []); locals = ((name_n0, (Of unary.Vi (Named name_a0))) ∷ (name_u1, (Of unary.Vi (Named name_b1))) ∷ (name_s, (Of unary.Vi (Number (pos 0)))) ∷ (name_t, (Of unary.Vi (Number (pos 1)))) ∷ (name_i, (Of unary.Vi (Var 0 sort.Int))) ∷ (name_x1, (Of unary.Vi (Var 1 sort.Int))) ∷ []); items = ([]) }) (name_k3 ∷ name_k4 ∷ []) ([]) (name_k1 ∷ name_k2 ∷ [])) (s.WithBlock (s.Then 6 (s.Meet ((Number (pos 0)) ∷ (Number (pos 0)) ∷ []) ([])) s.NoBlock s.End) (s.WithBlock (s.Then 7 (s.If ([]) ((record { lines = ((line.Comb (((pos 1), 4) ∷ ((pos 1), 6) ∷ [])) ∷ []) }) ∷ (record { lines = ((line.Comb (((pos 1), 5) ∷ ((pos 1), 6) ∷ [])) ∷ []) }) ∷ []) ([]) ([])) (s.WithBlock (s.Then 8 (s.Set ([]) ([])) s.NoBlock (s.Then 9 (s.Set ([]) ((record { lines = ((line.Comb (((pos 1), 4) ∷ ((pos 1), 7) ∷ [])) ∷ []) }) ∷ (record { lines = ((line.Comb (((pos 1), 5) ∷ ((pos 1), 7) ∷ [])) ∷ []) }) ∷ (record { lines = ((line.Comb (((pos 1), 4) ∷ ((pos 1), 7) ∷ [])) ∷ []) }) ∷ (record { lines = ((line.Comb (((pos 1), 5) ∷ ((pos 1), 7) ∷ [])) ∷ []) }) ∷ [])) s.NoBlock (s.Then 10 (s.Continue ((Of2 binary.Add (Named name_k1) (Number (pos 1))) ∷ (Of2 binary.Add (Named name_k2) (Number (pos 2))) ∷ []) ((record { lines = ((line.Comb (((pos 1), 4) ∷ ((pos 1), 7) ∷ [])) ∷ []) }) ∷ [])) s.NoBlock s.End))) (s.WithBlock (s.Then 11 (s.Break ((Named name_k1) ∷ (Named name_k2) ∷ []) ([])) s.NoBlock s.End) s.NoBlock)) s.End) s.NoBlock)) (s.Then 12 (s.Set ([]) ([])) s.NoBlock (s.Then 13 (s.Set ([]) ([])) s.NoBlock (s.Then 14 (s.Malloc name_k5 ([]) ([])) (s.WithBlock (s.Then 15 (s.If ([]) ([]) ([]) ([])) (s.WithBlock (s.Then 16 (s.Return ([]) ([]) ([])) s.NoBlock s.End) (s.WithBlock (s.Then 17 (s.Absurd ([])) s.NoBlock s.End) s.NoBlock)) s.End) (s.WithBlock (s.Then 18 (s.If (0 ∷ []) ([]) ([]) ([])) (s.WithBlock (s.Then 19 (s.Subst name_k5) s.NoBlock (s.Then 20 (s.Absurd ([])) s.NoBlock s.End)) (s.WithBlock (s.Then 21 (s.Store 0 ([]) ([])) s.NoBlock (s.Then 22 (s.Load 0 ([]) ([])) s.NoBlock (s.Then 23 (s.Free 0 1 ([])) s.NoBlock (s.Then 24 (s.Set ([]) ([])) s.NoBlock (s.Then 25 (s.Return ([]) ([]) ([])) s.NoBlock s.End))))) s.NoBlock)) s.End) s.NoBlock)) s.End)))))))) ≡ Accepted
unfolding computing
random_831 = refl

random_832 : body_verdict (record { predicates = ([]); specs = ((record { is_void = true; name = name_f; params = (name_n0 ∷ name_u1 ∷ []); vars = ((name_a0, sort.Int) ∷ (name_b1, sort.Int) ∷ []); pre = (record { opened = []; facts = ((Rel relation.Le (Number (pos 1)) (Var 0 sort.Int)) ∷ (Rel relation.Le (Var 0 sort.Int) (Number (pos 9))) ∷ (Rel relation.Le (Number (pos 0)) (Var 1 sort.Int)) ∷ (Rel relation.Le (Var 1 sort.Int) (Number (pos 31))) ∷ []); locals = ((name_n0, (Of unary.Vi (Var 0 sort.Int))) ∷ (name_u1, (Of unary.Vi (Var 1 sort.Int))) ∷ []); items = ([]) }); post = (record { opened = []; facts = ([]); locals = []; items = ([]) }) }) ∷ (record { is_void = false; name = name_main; params = ([]); vars = []; pre = (record { opened = []; facts = ([]); locals = []; items = ([]) }); post = (record { opened = []; facts = ((Rel relation.Eq (Var 0 sort.Val) (Of unary.Vi (Number (pos 0)))) ∷ []); locals = []; items = ([]) }) }) ∷ []) }) (record { is_void = true; name = name_f; params = (name_n0 ∷ name_u1 ∷ []); vars = ((name_a0, sort.Int) ∷ (name_b1, sort.Int) ∷ []); pre = (record { opened = []; facts = ((Rel relation.Le (Number (pos 1)) (Var 0 sort.Int)) ∷ (Rel relation.Le (Var 0 sort.Int) (Number (pos 9))) ∷ (Rel relation.Le (Number (pos 0)) (Var 1 sort.Int)) ∷ (Rel relation.Le (Var 1 sort.Int) (Number (pos 31))) ∷ []); locals = ((name_n0, (Of unary.Vi (Var 0 sort.Int))) ∷ (name_u1, (Of unary.Vi (Var 1 sort.Int))) ∷ []); items = ([]) }); post = (record { opened = []; facts = ([]); locals = []; items = ([]) }) }) (record { temps = (name_n0 ∷ name_u1 ∷ name_s ∷ name_t ∷ name_i ∷ name_x1 ∷ name_d0 ∷ name_p1 ∷ name_q1 ∷ []); body = (c.Then (c.Set 3 (c.Const 1)) (c.Then (c.Set 2 (c.Binary two.Div kind.Signed (c.Const 1) (c.Const 2))) (c.Then (c.Set 5 (c.Const 0)) (c.Then (c.Set 4 (c.Const 0)) (c.Then (c.Loop (c.Then (c.If (c.Nonzero kind.Signed (c.Binary two.Lt kind.Signed (c.Temp 4) (c.Const 3))) (c.Then (c.Set 5 (c.Binary two.Add kind.Unsigned (c.Temp 5) (c.Const 2))) (c.Then (c.Set 4 (c.Binary two.Add kind.Signed (c.Temp 4) (c.Const 1))) (c.Then c.Continue c.End))) (c.Then c.Break c.End)) c.End)) (c.Then (c.Set 2 (c.Temp 3)) (c.Then (c.Set 2 (c.Binary two.Eq kind.Signed (c.Const 1) (c.Const 1))) (c.Then (c.Malloc 7 3) (c.Then (c.If (c.Pointers (c.Temp 7) (c.Const 0) true) (c.Then (c.Return None) c.End) c.End) (c.Then (c.Store (root.Temp 7) (c.Offset 0 c.Here) (c.Const 2)) (c.Then (c.Load 3 (root.Temp 7) (c.Offset 0 c.Here)) (c.Then (c.Free (c.Temp 7)) (c.Then (c.Set 5 (c.Binary two.Rem kind.Unsigned (c.Binary two.Mul kind.Unsigned (c.Const 1) (c.Const 1)) (c.Binary two.Add kind.Unsigned (c.Const 4294967295) (c.Const 3)))) (c.Then (c.Return None) c.End)))))))))))))) }) (s.Then 1 (s.Set ([]) ([])) s.NoBlock (s.Then 2 (s.Set ([]) ([])) s.NoBlock (s.Then 3 (s.Set ([]) ([])) s.NoBlock (s.Then 4 (s.Set ([]) ([])) s.NoBlock (s.Then 5 (s.While (record { opened = (sort.Int ∷ sort.Int ∷ []); facts = ((Rel relation.Le (Number (pos 0)) (Var 0 sort.Int)) ∷ (Rel relation.Le (Var 0 sort.Int) (Number (pos 3))) ∷ []); locals = ((name_n0, (Of unary.Vi (Named name_a0))) ∷ (name_u1, (Of unary.Vi (Named name_b1))) ∷ (name_s, (Of unary.Vi (Number (pos 0)))) ∷ (name_t, (Of unary.Vi (Number (pos 1)))) ∷ (name_i, (Of unary.Vi (Var 0 sort.Int))) ∷ (name_x1, (Of unary.Vi (Var 1 sort.Int))) ∷ []); items = ([]) }) (record { opened = (sort.Int ∷ sort.Int ∷ []); facts = ((Rel relation.Le (Number (pos 0)) (Var 0 sort.Int)) ∷ (Rel relation.Le (Var 0 sort.Int) (Number (pos 3))) ∷ (Rel relation.Le (Number (pos 3)) (Var 0 sort.Int)) ∷ []); locals = ((name_n0, (Of unary.Vi (Named name_a0))) ∷ (name_u1, (Of unary.Vi (Named name_b1))) ∷ (name_s, (Of unary.Vi (Number (pos 0)))) ∷ (name_t, (Of unary.Vi (Number (pos 1)))) ∷ (name_i, (Of unary.Vi (Var 0 sort.Int))) ∷ (name_x1, (Of unary.Vi (Var 1 sort.Int))) ∷ []); items = ([]) }) (name_k3 ∷ name_k4 ∷ []) ([]) (name_k1 ∷ name_k2 ∷ [])) (s.WithBlock (s.Then 6 (s.Meet ((Number (pos 0)) ∷ (Number (pos 0)) ∷ []) ([])) s.NoBlock s.End) (s.WithBlock (s.Then 7 (s.If ([]) ((record { lines = ((line.Comb (((pos 1), 4) ∷ ((pos 1), 6) ∷ [])) ∷ []) }) ∷ (record { lines = ((line.Comb (((pos 1), 5) ∷ ((pos 1), 6) ∷ [])) ∷ []) }) ∷ []) ([]) ([])) (s.WithBlock (s.Then 8 (s.Set ([]) ([])) s.NoBlock (s.Then 9 (s.Set ([]) ((record { lines = ((line.Comb (((pos 1), 4) ∷ ((pos 1), 7) ∷ [])) ∷ []) }) ∷ (record { lines = ((line.Comb (((pos 1), 5) ∷ ((pos 1), 7) ∷ [])) ∷ []) }) ∷ (record { lines = ((line.Comb (((pos 1), 4) ∷ ((pos 1), 7) ∷ [])) ∷ []) }) ∷ (record { lines = ((line.Comb (((pos 1), 5) ∷ ((pos 1), 7) ∷ [])) ∷ []) }) ∷ [])) s.NoBlock (s.Then 10 (s.Continue ((Of2 binary.Add (Named name_k1) (Number (pos 1))) ∷ (Of2 binary.Add (Named name_k2) (Number (pos 2))) ∷ []) ((record { lines = ((line.Comb (((pos 1), 4) ∷ ((pos 1), 7) ∷ [])) ∷ []) }) ∷ [])) s.NoBlock s.End))) (s.WithBlock (s.Then 11 (s.Break ((Named name_k1) ∷ (Named name_k2) ∷ []) ([])) s.NoBlock s.End) s.NoBlock)) s.End) s.NoBlock)) (s.Then 12 (s.Set ([]) ([])) s.NoBlock (s.Then 13 (s.Set ([]) ([])) s.NoBlock (s.Then 14 (s.Malloc name_k5 ([]) ([])) (s.WithBlock (s.Then 15 (s.If ([]) ([]) ([]) ([])) (s.WithBlock (s.Then 16 (s.Return ([]) ([]) ([])) s.NoBlock s.End) (s.WithBlock (s.Then 17 (s.Absurd ([])) s.NoBlock s.End) s.NoBlock)) s.End) (s.WithBlock (s.Then 18 (s.If (0 ∷ []) ([]) ([]) ([])) (s.WithBlock (s.Then 19 (s.Subst name_k5) s.NoBlock (s.Then 20 (s.Absurd ([])) s.NoBlock s.End)) (s.WithBlock (s.Then 21 (s.While (record { opened = (sort.Int ∷ sort.Int ∷ []); facts = ((Rel relation.Le (Number (pos 0)) (Var 0 sort.Int)) ∷ (Rel relation.Le (Var 0 sort.Int) (Number (pos 3))) ∷ []); locals = ((name_n0, (Of unary.Vi (Named name_a0))) ∷ (name_u1, (Of unary.Vi (Named name_b1))) ∷ (name_s, (Of unary.Vi (Number (pos 0)))) ∷ (name_t, (Of unary.Vi (Number (pos 1)))) ∷ (name_i, (Of unary.Vi (Var 0 sort.Int))) ∷ (name_x1, (Of unary.Vi (Var 1 sort.Int))) ∷ []); items = ([]) }) (record { opened = (sort.Int ∷ sort.Int ∷ []); facts = ((Rel relation.Le (Number (pos 0)) (Var 0 sort.Int)) ∷ (Rel relation.Le (Var 0 sort.Int) (Number (pos 3))) ∷ (Rel relation.Le (Number (pos 3)) (Var 0 sort.Int)) ∷ []); locals = ((name_n0, (Of unary.Vi (Named name_a0))) ∷ (name_u1, (Of unary.Vi (Named name_b1))) ∷ (name_s, (Of unary.Vi (Number (pos 0)))) ∷ (name_t, (Of unary.Vi (Number (pos 1)))) ∷ (name_i, (Of unary.Vi (Var 0 sort.Int))) ∷ (name_x1, (Of unary.Vi (Var 1 sort.Int))) ∷ []); items = ([]) }) (name_k3 ∷ name_k4 ∷ []) ([]) (name_k1 ∷ name_k2 ∷ [])) (s.WithBlock (s.Then 22 (s.Meet ((Number (pos 0)) ∷ (Number (pos 0)) ∷ []) ([])) s.NoBlock s.End) (s.WithBlock (s.Then 23 (s.If ([]) ((record { lines = ((line.Comb (((pos 1), 4) ∷ ((pos 1), 6) ∷ [])) ∷ []) }) ∷ (record { lines = ((line.Comb (((pos 1), 5) ∷ ((pos 1), 6) ∷ [])) ∷ []) }) ∷ []) ([]) ([])) (s.WithBlock (s.Then 24 (s.Set ([]) ([])) s.NoBlock (s.Then 25 (s.Set ([]) ((record { lines = ((line.Comb (((pos 1), 4) ∷ ((pos 1), 7) ∷ [])) ∷ []) }) ∷ (record { lines = ((line.Comb (((pos 1), 5) ∷ ((pos 1), 7) ∷ [])) ∷ []) }) ∷ (record { lines = ((line.Comb (((pos 1), 4) ∷ ((pos 1), 7) ∷ [])) ∷ []) }) ∷ (record { lines = ((line.Comb (((pos 1), 5) ∷ ((pos 1), 7) ∷ [])) ∷ []) }) ∷ [])) s.NoBlock (s.Then 26 (s.Continue ((Of2 binary.Add (Named name_k1) (Number (pos 1))) ∷ (Of2 binary.Add (Named name_k2) (Number (pos 2))) ∷ []) ((record { lines = ((line.Comb (((pos 1), 4) ∷ ((pos 1), 7) ∷ [])) ∷ []) }) ∷ [])) s.NoBlock s.End))) (s.WithBlock (s.Then 27 (s.Break ((Named name_k1) ∷ (Named name_k2) ∷ []) ([])) s.NoBlock s.End) s.NoBlock)) s.End) s.NoBlock)) (s.Then 28 (s.Store 0 ([]) ([])) s.NoBlock (s.Then 29 (s.Load 0 ([]) ([])) s.NoBlock (s.Then 30 (s.Free 0 1 ([])) s.NoBlock (s.Then 31 (s.Set ([]) ([])) s.NoBlock (s.Then 32 (s.Return ([]) ([]) ([])) s.NoBlock s.End)))))) s.NoBlock)) s.End) s.NoBlock)) s.End)))))))) ≡ (RefusedAt 21 6 1)
unfolding computing
random_832 = refl

random_833 : body_verdict (record { predicates = ([]); specs = ((record { is_void = true; name = name_f; params = (name_n0 ∷ name_u1 ∷ []); vars = ((name_a0, sort.Int) ∷ (name_b1, sort.Int) ∷ []); pre = (record { opened = []; facts = ((Rel relation.Le (Number (pos 1)) (Var 0 sort.Int)) ∷ (Rel relation.Le (Var 0 sort.Int) (Number (pos 9))) ∷ (Rel relation.Le (Number (pos 0)) (Var 1 sort.Int)) ∷ (Rel relation.Le (Var 1 sort.Int) (Number (pos 31))) ∷ []); locals = ((name_n0, (Of unary.Vi (Var 0 sort.Int))) ∷ (name_u1, (Of unary.Vi (Var 1 sort.Int))) ∷ []); items = ([]) }); post = (record { opened = []; facts = ([]); locals = []; items = ([]) }) }) ∷ (record { is_void = false; name = name_main; params = ([]); vars = []; pre = (record { opened = []; facts = ([]); locals = []; items = ([]) }); post = (record { opened = []; facts = ((Rel relation.Eq (Var 0 sort.Val) (Of unary.Vi (Number (pos 0)))) ∷ []); locals = []; items = ([]) }) }) ∷ []) }) (record { is_void = true; name = name_f; params = (name_n0 ∷ name_u1 ∷ []); vars = ((name_a0, sort.Int) ∷ (name_b1, sort.Int) ∷ []); pre = (record { opened = []; facts = ((Rel relation.Le (Number (pos 1)) (Var 0 sort.Int)) ∷ (Rel relation.Le (Var 0 sort.Int) (Number (pos 9))) ∷ (Rel relation.Le (Number (pos 0)) (Var 1 sort.Int)) ∷ (Rel relation.Le (Var 1 sort.Int) (Number (pos 31))) ∷ []); locals = ((name_n0, (Of unary.Vi (Var 0 sort.Int))) ∷ (name_u1, (Of unary.Vi (Var 1 sort.Int))) ∷ []); items = ([]) }); post = (record { opened = []; facts = ([]); locals = []; items = ([]) }) }) (record { temps = (name_n0 ∷ name_u1 ∷ name_s ∷ name_t ∷ name_i ∷ name_x1 ∷ name_d0 ∷ name_p1 ∷ name_q1 ∷ []); body = (c.Then (c.Set 3 (c.Const 1)) (c.Then (c.Set 2 (c.Binary two.Div kind.Signed (c.Const 1) (c.Const 2))) (c.Then (c.Set 5 (c.Const 0)) (c.Then (c.Set 4 (c.Const 0)) (c.Then (c.Loop (c.Then (c.If (c.Nonzero kind.Signed (c.Binary two.Lt kind.Signed (c.Temp 4) (c.Const 3))) (c.Then (c.Set 5 (c.Binary two.Add kind.Unsigned (c.Temp 5) (c.Const 2))) (c.Then (c.Set 4 (c.Binary two.Add kind.Signed (c.Temp 4) (c.Const 1))) (c.Then c.Continue c.End))) (c.Then c.Break c.End)) c.End)) (c.Then (c.Set 2 (c.Temp 3)) (c.Then (c.Set 2 (c.Binary two.Eq kind.Signed (c.Const 1) (c.Const 1))) (c.Then (c.Malloc 7 3) (c.Then (c.If (c.Pointers (c.Temp 7) (c.Const 0) true) (c.Then (c.Return None) c.End) c.End) (c.Then (c.Store (root.Temp 7) (c.Offset 0 c.Here) (c.Const 2)) (c.Then (c.Load 3 (root.Temp 7) (c.Offset 0 c.Here)) (c.Then (c.Free (c.Temp 7)) (c.Then (c.Set 5 (c.Binary two.Rem kind.Unsigned (c.Binary two.Mul kind.Unsigned (c.Const 1) (c.Const 1)) (c.Binary two.Add kind.Unsigned (c.Const 4294967295) (c.Const 3)))) (c.Then (c.Return None) c.End)))))))))))))) }) (s.Then 1 (s.Set ([]) ([])) s.NoBlock (s.Then 2 (s.Set ([]) ([])) s.NoBlock (s.Then 3 (s.Set ([]) ([])) s.NoBlock (s.Then 4 (s.Set ([]) ([])) s.NoBlock (s.Then 5 (s.While (record { opened = (sort.Int ∷ sort.Int ∷ []); facts = ((Rel relation.Le (Number (pos 0)) (Var 0 sort.Int)) ∷ (Rel relation.Le (Var 0 sort.Int) (Number (pos 3))) ∷ []); locals = ((name_n0, (Of unary.Vi (Named name_a0))) ∷ (name_u1, (Of unary.Vi (Named name_b1))) ∷ (name_s, (Of unary.Vi (Number (pos 0)))) ∷ (name_t, (Of unary.Vi (Number (pos 1)))) ∷ (name_i, (Of unary.Vi (Var 0 sort.Int))) ∷ (name_x1, (Of unary.Vi (Var 1 sort.Int))) ∷ []); items = ([]) }) (record { opened = (sort.Int ∷ sort.Int ∷ []); facts = ((Rel relation.Le (Number (pos 0)) (Var 0 sort.Int)) ∷ (Rel relation.Le (Var 0 sort.Int) (Number (pos 3))) ∷ (Rel relation.Le (Number (pos 3)) (Var 0 sort.Int)) ∷ []); locals = ((name_n0, (Of unary.Vi (Named name_a0))) ∷ (name_u1, (Of unary.Vi (Named name_b1))) ∷ (name_s, (Of unary.Vi (Number (pos 0)))) ∷ (name_t, (Of unary.Vi (Number (pos 1)))) ∷ (name_i, (Of unary.Vi (Var 0 sort.Int))) ∷ (name_x1, (Of unary.Vi (Var 1 sort.Int))) ∷ []); items = ([]) }) (name_k3 ∷ name_k4 ∷ []) ([]) (name_k1 ∷ name_k2 ∷ [])) (s.WithBlock (s.Then 6 (s.Meet ((Number (pos 0)) ∷ (Number (pos 0)) ∷ []) ([])) s.NoBlock s.End) (s.WithBlock (s.Then 7 (s.If ([]) ((record { lines = ((line.Comb (((pos 1), 4) ∷ ((pos 1), 6) ∷ [])) ∷ []) }) ∷ (record { lines = ((line.Comb (((pos 1), 5) ∷ ((pos 1), 6) ∷ [])) ∷ []) }) ∷ []) ([]) ([])) (s.WithBlock (s.Then 8 (s.Set ([]) ([])) s.NoBlock (s.Then 9 (s.Set ([]) ((record { lines = ((line.Comb (((pos 1), 4) ∷ ((pos 1), 7) ∷ [])) ∷ []) }) ∷ (record { lines = ((line.Comb (((pos 1), 5) ∷ ((pos 1), 7) ∷ [])) ∷ []) }) ∷ (record { lines = ((line.Comb (((pos 1), 4) ∷ ((pos 1), 7) ∷ [])) ∷ []) }) ∷ (record { lines = ((line.Comb (((pos 1), 5) ∷ ((pos 1), 7) ∷ [])) ∷ []) }) ∷ [])) s.NoBlock (s.Then 10 (s.Continue ((Of2 binary.Add (Named name_k1) (Number (pos 1))) ∷ (Of2 binary.Add (Named name_k2) (Number (pos 2))) ∷ []) ((record { lines = ((line.Comb (((pos 1), 4) ∷ ((pos 1), 7) ∷ [])) ∷ []) }) ∷ [])) s.NoBlock s.End))) (s.WithBlock (s.Then 11 (s.Break ((Named name_k1) ∷ (Named name_k2) ∷ []) ([])) s.NoBlock s.End) s.NoBlock)) s.End) s.NoBlock)) (s.Then 12 (s.Set ([]) ([])) s.NoBlock (s.Then 13 (s.Set ([]) ([])) s.NoBlock (s.Then 14 (s.Malloc name_k5 ([]) ([])) (s.WithBlock (s.Then 15 (s.If ([]) ([]) ([]) ([])) (s.WithBlock (s.Then 16 (s.Return ([]) ([]) ([])) s.NoBlock s.End) (s.WithBlock (s.Then 17 (s.Absurd ([])) s.NoBlock s.End) s.NoBlock)) s.End) (s.WithBlock (s.Then 18 (s.If (0 ∷ []) ([]) ([]) ([])) (s.WithBlock (s.Then 19 (s.Subst name_k5) s.NoBlock (s.Then 20 (s.Absurd ([])) s.NoBlock s.End)) (s.WithBlock (s.Then 21 (s.Load 0 ([]) ([])) s.NoBlock (s.Then 22 (s.Free 0 1 ([])) s.NoBlock (s.Then 23 (s.Set ([]) ([])) s.NoBlock (s.Then 24 (s.Return ([]) ([]) ([])) s.NoBlock s.End)))) s.NoBlock)) s.End) s.NoBlock)) s.End)))))))) ≡ (RefusedAt 21 3 1)
unfolding computing
random_833 = refl

random_834 : body_verdict (record { predicates = ((record { name = name_ov; args = ([]); cases = ((record { opened = (sort.Val ∷ []); facts = ([]); locals = []; items = ((Data (Number (pos 64)) (Global name_x) (Of2 binary.Cons (Var 0 sort.Val) Nil)) ∷ []) }) ∷ []) }) ∷ []); specs = ((record { is_void = false; name = name_main; params = ([]); vars = []; pre = (record { opened = []; facts = ([]); locals = []; items = ((Data (Number (pos 64)) (Global name_arr) (Of2 binary.Cons (Of unary.Vi (Number (pos 1))) (Of2 binary.Cons (Of unary.Vi (Number (pos 2))) (Of2 binary.Cons (Of unary.Vi (Number (pos 0))) (Of2 binary.Cons (Of unary.Vi (Number (pos 0))) Nil))))) ∷ (Data (Number (pos 64)) (Global name_x) (Of2 binary.Cons (Of unary.Vi (Number (pos 3))) Nil)) ∷ (Data (Number (pos 64)) (Global name_l) (Of2 binary.Cons (Of unary.Vi (Number (pos 0))) Nil)) ∷ []) }); post = (record { opened = (sort.List ∷ []); facts = ((Rel relation.Eq (Var 0 sort.Val) (Of unary.Vi (Number (pos 0)))) ∷ []); locals = []; items = ((Data (Number (pos 64)) (Global name_arr) (Of2 binary.Cons (Of unary.Vi (Number (pos 1))) (Of2 binary.Cons (Of unary.Vi (Number (pos 6))) (Of2 binary.Cons (Of unary.Vi (Number (pos 0))) (Of2 binary.Cons (Of unary.Vi (Number (pos 0))) Nil))))) ∷ (Data (Number (pos 64)) (Global name_x) (Var 1 sort.List)) ∷ (Data (Number (pos 64)) (Global name_l) (Of2 binary.Cons Undef Nil)) ∷ []) }) }) ∷ []) }) (record { is_void = false; name = name_main; params = ([]); vars = []; pre = (record { opened = []; facts = ([]); locals = []; items = ((Data (Number (pos 64)) (Global name_arr) (Of2 binary.Cons (Of unary.Vi (Number (pos 1))) (Of2 binary.Cons (Of unary.Vi (Number (pos 2))) (Of2 binary.Cons (Of unary.Vi (Number (pos 0))) (Of2 binary.Cons (Of unary.Vi (Number (pos 0))) Nil))))) ∷ (Data (Number (pos 64)) (Global name_x) (Of2 binary.Cons (Of unary.Vi (Number (pos 3))) Nil)) ∷ (Data (Number (pos 64)) (Global name_l) (Of2 binary.Cons (Of unary.Vi (Number (pos 0))) Nil)) ∷ []) }); post = (record { opened = (sort.List ∷ []); facts = ((Rel relation.Eq (Var 0 sort.Val) (Of unary.Vi (Number (pos 0)))) ∷ []); locals = []; items = ((Data (Number (pos 64)) (Global name_arr) (Of2 binary.Cons (Of unary.Vi (Number (pos 1))) (Of2 binary.Cons (Of unary.Vi (Number (pos 6))) (Of2 binary.Cons (Of unary.Vi (Number (pos 0))) (Of2 binary.Cons (Of unary.Vi (Number (pos 0))) Nil))))) ∷ (Data (Number (pos 64)) (Global name_x) (Var 1 sort.List)) ∷ (Data (Number (pos 64)) (Global name_l) (Of2 binary.Cons Undef Nil)) ∷ []) }) }) (record { temps = (name_s ∷ name_t ∷ name_i ∷ name_x1 ∷ name_d0 ∷ name_p1 ∷ name_q1 ∷ []); body = (c.Then (c.Set 0 (c.Const 3)) (c.Then (c.Set 1 (c.Const 0)) (c.Then (c.OnLock lock.Make (c.Address (root.Global name_l 1) c.Here)) (c.Then (c.OnLock lock.Release (c.Address (root.Global name_l 1) c.Here)) (c.Then (c.Store (root.Global name_arr 4) (c.Index kind.Signed (c.Const 1) c.Here) (c.Binary two.Mul kind.Signed (c.Const 2) (c.Const 3))) (c.Then (c.OnLock lock.Acquire (c.Address (root.Global name_l 1) c.Here)) (c.Then (c.Store (root.Global name_x 1) c.Here (c.Const 4)) (c.Then (c.OnLock lock.Release (c.Address (root.Global name_l 1) c.Here)) (c.Then (c.OnLock lock.Acquire (c.Address (root.Global name_l 1) c.Here)) (c.Then (c.OnLock lock.Free (c.Address (root.Global name_l 1) c.Here)) (c.Then (c.Return (Some (c.Temp 1))) c.End))))))))))) }) (s.Then 1 (s.Set ([]) ([])) s.NoBlock (s.Then 2 (s.Set ([]) ([])) s.NoBlock (s.Then 3 (s.MakeLock 2 (record { name = name_ov; args = ([]) }) ([]) ([])) s.NoBlock (s.Then 4 (s.Fold name_ov 0 ([]) ((Of unary.Vi (Number (pos 3))) ∷ []) ([])) s.NoBlock (s.Then 5 (s.Release 2 3 ([])) s.NoBlock (s.Then 6 (s.Bounds 1 None ([])) s.NoBlock (s.Then 7 (s.Store 0 ([]) ([])) s.NoBlock (s.Then 8 (s.Acquire 1 ([])) s.NoBlock (s.Then 9 (s.Unfold 3 ((name_k1 ∷ []) ∷ [])) (s.WithBlock (s.Then 10 (s.Store 3 ([]) ([])) s.NoBlock (s.Then 11 (s.Fold name_ov 0 ([]) ((Of unary.Vi (Number (pos 4))) ∷ []) ([])) s.NoBlock (s.Then 12 (s.Release 2 3 ([])) s.NoBlock (s.Then 13 (s.Acquire 1 ([])) s.NoBlock (s.Then 14 (s.Unfold 3 ((name_k2 ∷ []) ∷ [])) (s.WithBlock (s.Then 15 (s.FreeLock 1 2 ([]) ([])) s.NoBlock (s.Then 16 (s.Return ((Of2 binary.Cons (Named name_k2) Nil) ∷ []) ([]) ([])) s.NoBlock s.End)) s.NoBlock) s.End))))) s.NoBlock) s.End))))))))) ≡ Accepted
unfolding computing
random_834 = refl

random_835 : body_verdict (record { predicates = ((record { name = name_ov; args = ([]); cases = ((record { opened = (sort.Val ∷ []); facts = ([]); locals = []; items = ((Data (Number (pos 64)) (Global name_x) (Of2 binary.Cons (Var 0 sort.Val) Nil)) ∷ []) }) ∷ []) }) ∷ []); specs = ((record { is_void = false; name = name_main; params = ([]); vars = []; pre = (record { opened = []; facts = ([]); locals = []; items = ((Data (Number (pos 64)) (Global name_arr) (Of2 binary.Cons (Of unary.Vi (Number (pos 1))) (Of2 binary.Cons (Of unary.Vi (Number (pos 2))) (Of2 binary.Cons (Of unary.Vi (Number (pos 0))) (Of2 binary.Cons (Of unary.Vi (Number (pos 0))) Nil))))) ∷ (Data (Number (pos 64)) (Global name_x) (Of2 binary.Cons (Of unary.Vi (Number (pos 3))) Nil)) ∷ (Data (Number (pos 64)) (Global name_l) (Of2 binary.Cons (Of unary.Vi (Number (pos 0))) Nil)) ∷ []) }); post = (record { opened = (sort.List ∷ []); facts = ((Rel relation.Eq (Var 0 sort.Val) (Of unary.Vi (Number (pos 0)))) ∷ []); locals = []; items = ((Data (Number (pos 64)) (Global name_arr) (Of2 binary.Cons (Of unary.Vi (Number (pos 1))) (Of2 binary.Cons (Of unary.Vi (Number (pos 6))) (Of2 binary.Cons (Of unary.Vi (Number (pos 0))) (Of2 binary.Cons (Of unary.Vi (Number (pos 0))) Nil))))) ∷ (Data (Number (pos 64)) (Global name_x) (Var 1 sort.List)) ∷ (Data (Number (pos 64)) (Global name_l) (Of2 binary.Cons Undef Nil)) ∷ []) }) }) ∷ []) }) (record { is_void = false; name = name_main; params = ([]); vars = []; pre = (record { opened = []; facts = ([]); locals = []; items = ((Data (Number (pos 64)) (Global name_arr) (Of2 binary.Cons (Of unary.Vi (Number (pos 1))) (Of2 binary.Cons (Of unary.Vi (Number (pos 2))) (Of2 binary.Cons (Of unary.Vi (Number (pos 0))) (Of2 binary.Cons (Of unary.Vi (Number (pos 0))) Nil))))) ∷ (Data (Number (pos 64)) (Global name_x) (Of2 binary.Cons (Of unary.Vi (Number (pos 3))) Nil)) ∷ (Data (Number (pos 64)) (Global name_l) (Of2 binary.Cons (Of unary.Vi (Number (pos 0))) Nil)) ∷ []) }); post = (record { opened = (sort.List ∷ []); facts = ((Rel relation.Eq (Var 0 sort.Val) (Of unary.Vi (Number (pos 0)))) ∷ []); locals = []; items = ((Data (Number (pos 64)) (Global name_arr) (Of2 binary.Cons (Of unary.Vi (Number (pos 1))) (Of2 binary.Cons (Of unary.Vi (Number (pos 6))) (Of2 binary.Cons (Of unary.Vi (Number (pos 0))) (Of2 binary.Cons (Of unary.Vi (Number (pos 0))) Nil))))) ∷ (Data (Number (pos 64)) (Global name_x) (Var 1 sort.List)) ∷ (Data (Number (pos 64)) (Global name_l) (Of2 binary.Cons Undef Nil)) ∷ []) }) }) (record { temps = (name_s ∷ name_t ∷ name_i ∷ name_x1 ∷ name_d0 ∷ name_p1 ∷ name_q1 ∷ []); body = (c.Then (c.Set 0 (c.Const 3)) (c.Then (c.Set 1 (c.Const 0)) (c.Then (c.OnLock lock.Make (c.Address (root.Global name_l 1) c.Here)) (c.Then (c.OnLock lock.Release (c.Address (root.Global name_l 1) c.Here)) (c.Then (c.Store (root.Global name_arr 4) (c.Index kind.Signed (c.Const 1) c.Here) (c.Binary two.Mul kind.Signed (c.Const 2) (c.Const 3))) (c.Then (c.OnLock lock.Acquire (c.Address (root.Global name_l 1) c.Here)) (c.Then (c.Store (root.Global name_x 1) c.Here (c.Const 4)) (c.Then (c.OnLock lock.Release (c.Address (root.Global name_l 1) c.Here)) (c.Then (c.OnLock lock.Acquire (c.Address (root.Global name_l 1) c.Here)) (c.Then (c.OnLock lock.Free (c.Address (root.Global name_l 1) c.Here)) (c.Then (c.Return (Some (c.Temp 1))) c.End))))))))))) }) (s.Then 1 (s.Set ([]) ([])) s.NoBlock (s.Then 2 (s.Set ([]) ([])) s.NoBlock (s.Then 3 (s.MakeLock 2 (record { name = name_ov; args = ([]) }) ([]) ([])) s.NoBlock (s.Then 4 (s.Fold name_ov 0 ([]) ((Of unary.Vi (Number (pos 3))) ∷ []) ([])) s.NoBlock (s.Then 5 (s.Release 2 3 ([])) s.NoBlock (s.Then 6 (s.Bounds 1 None ([])) s.NoBlock (s.Then 7 (s.Store 0 ([]) ([])) s.NoBlock (s.Then 8 (s.Acquire 1 ([])) s.NoBlock (s.Then 9 (s.Unfold 3 ((name_k1 ∷ []) ∷ [])) (s.WithBlock (s.Then 10 (s.Store 3 ([]) ([])) s.NoBlock (s.Then 11 (s.Acquire 1 ([])) s.NoBlock (s.Then 12 (s.Release 2 3 ([])) s.NoBlock (s.Then 13 (s.Acquire 1 ([])) s.NoBlock (s.Then 14 (s.Unfold 3 ((name_k2 ∷ []) ∷ [])) (s.WithBlock (s.Then 15 (s.FreeLock 1 2 ([]) ([])) s.NoBlock (s.Then 16 (s.Return ((Of2 binary.Cons (Named name_k2) Nil) ∷ []) ([]) ([])) s.NoBlock s.End)) s.NoBlock) s.End))))) s.NoBlock) s.End))))))))) ≡ (RefusedAt 11 17 1)
unfolding computing
random_835 = refl

random_836 : body_verdict (record { predicates = ((record { name = name_ov; args = ([]); cases = ((record { opened = (sort.Val ∷ []); facts = ([]); locals = []; items = ((Data (Number (pos 64)) (Global name_x) (Of2 binary.Cons (Var 0 sort.Val) Nil)) ∷ []) }) ∷ []) }) ∷ []); specs = ((record { is_void = false; name = name_main; params = ([]); vars = []; pre = (record { opened = []; facts = ([]); locals = []; items = ((Data (Number (pos 64)) (Global name_arr) (Of2 binary.Cons (Of unary.Vi (Number (pos 1))) (Of2 binary.Cons (Of unary.Vi (Number (pos 2))) (Of2 binary.Cons (Of unary.Vi (Number (pos 0))) (Of2 binary.Cons (Of unary.Vi (Number (pos 0))) Nil))))) ∷ (Data (Number (pos 64)) (Global name_x) (Of2 binary.Cons (Of unary.Vi (Number (pos 3))) Nil)) ∷ (Data (Number (pos 64)) (Global name_l) (Of2 binary.Cons (Of unary.Vi (Number (pos 0))) Nil)) ∷ []) }); post = (record { opened = (sort.List ∷ []); facts = ((Rel relation.Eq (Var 0 sort.Val) (Of unary.Vi (Number (pos 0)))) ∷ []); locals = []; items = ((Data (Number (pos 64)) (Global name_arr) (Of2 binary.Cons (Of unary.Vi (Number (pos 1))) (Of2 binary.Cons (Of unary.Vi (Number (pos 6))) (Of2 binary.Cons (Of unary.Vi (Number (pos 0))) (Of2 binary.Cons (Of unary.Vi (Number (pos 0))) Nil))))) ∷ (Data (Number (pos 64)) (Global name_x) (Var 1 sort.List)) ∷ (Data (Number (pos 64)) (Global name_l) (Of2 binary.Cons Undef Nil)) ∷ []) }) }) ∷ []) }) (record { is_void = false; name = name_main; params = ([]); vars = []; pre = (record { opened = []; facts = ([]); locals = []; items = ((Data (Number (pos 64)) (Global name_arr) (Of2 binary.Cons (Of unary.Vi (Number (pos 1))) (Of2 binary.Cons (Of unary.Vi (Number (pos 2))) (Of2 binary.Cons (Of unary.Vi (Number (pos 0))) (Of2 binary.Cons (Of unary.Vi (Number (pos 0))) Nil))))) ∷ (Data (Number (pos 64)) (Global name_x) (Of2 binary.Cons (Of unary.Vi (Number (pos 3))) Nil)) ∷ (Data (Number (pos 64)) (Global name_l) (Of2 binary.Cons (Of unary.Vi (Number (pos 0))) Nil)) ∷ []) }); post = (record { opened = (sort.List ∷ []); facts = ((Rel relation.Eq (Var 0 sort.Val) (Of unary.Vi (Number (pos 0)))) ∷ []); locals = []; items = ((Data (Number (pos 64)) (Global name_arr) (Of2 binary.Cons (Of unary.Vi (Number (pos 1))) (Of2 binary.Cons (Of unary.Vi (Number (pos 6))) (Of2 binary.Cons (Of unary.Vi (Number (pos 0))) (Of2 binary.Cons (Of unary.Vi (Number (pos 0))) Nil))))) ∷ (Data (Number (pos 64)) (Global name_x) (Var 1 sort.List)) ∷ (Data (Number (pos 64)) (Global name_l) (Of2 binary.Cons Undef Nil)) ∷ []) }) }) (record { temps = (name_s ∷ name_t ∷ name_i ∷ name_x1 ∷ name_d0 ∷ name_p1 ∷ name_q1 ∷ []); body = (c.Then (c.Set 0 (c.Const 3)) (c.Then (c.Set 1 (c.Const 0)) (c.Then (c.OnLock lock.Make (c.Address (root.Global name_l 1) c.Here)) (c.Then (c.OnLock lock.Release (c.Address (root.Global name_l 1) c.Here)) (c.Then (c.Store (root.Global name_arr 4) (c.Index kind.Signed (c.Const 1) c.Here) (c.Binary two.Mul kind.Signed (c.Const 2) (c.Const 3))) (c.Then (c.OnLock lock.Acquire (c.Address (root.Global name_l 1) c.Here)) (c.Then (c.Store (root.Global name_x 1) c.Here (c.Const 4)) (c.Then (c.OnLock lock.Release (c.Address (root.Global name_l 1) c.Here)) (c.Then (c.OnLock lock.Acquire (c.Address (root.Global name_l 1) c.Here)) (c.Then (c.OnLock lock.Free (c.Address (root.Global name_l 1) c.Here)) (c.Then (c.Return (Some (c.Temp 1))) c.End))))))))))) }) (s.Then 1 (s.Set ([]) ([])) s.NoBlock (s.Then 2 (s.Set ([]) ([])) s.NoBlock (s.Then 3 (s.MakeLock 2 (record { name = name_ov; args = ([]) }) ([]) ([])) s.NoBlock (s.Then 4 (s.Fold name_ov 0 ([]) ((Of unary.Vi (Number (pos 3))) ∷ []) ([])) s.NoBlock (s.Then 5 (s.Release 2 3 ([])) s.NoBlock (s.Then 6 (s.Bounds 1 None ([])) s.NoBlock (s.Then 7 (s.Store 0 ([]) ([])) s.NoBlock (s.Then 8 (s.Acquire 1 ([])) s.NoBlock (s.Then 9 s.Skip s.NoBlock (s.Then 10 (s.Unfold 3 ((name_k1 ∷ []) ∷ [])) (s.WithBlock (s.Then 11 (s.Store 3 ([]) ([])) s.NoBlock (s.Then 12 (s.Fold name_ov 0 ([]) ((Of unary.Vi (Number (pos 4))) ∷ []) ([])) s.NoBlock (s.Then 13 (s.Release 2 3 ([])) s.NoBlock (s.Then 14 (s.Acquire 1 ([])) s.NoBlock (s.Then 15 (s.Unfold 3 ((name_k2 ∷ []) ∷ [])) (s.WithBlock (s.Then 16 (s.FreeLock 1 2 ([]) ([])) s.NoBlock (s.Then 17 (s.Return ((Of2 binary.Cons (Named name_k2) Nil) ∷ []) ([]) ([])) s.NoBlock s.End)) s.NoBlock) s.End))))) s.NoBlock) s.End)))))))))) ≡ (RefusedAt 9 1 1)
unfolding computing
random_836 = refl

random_837 : body_verdict (record { predicates = ((record { name = name_ov; args = ([]); cases = ((record { opened = (sort.Val ∷ []); facts = ([]); locals = []; items = ((Data (Number (pos 64)) (Global name_x) (Of2 binary.Cons (Var 0 sort.Val) Nil)) ∷ []) }) ∷ []) }) ∷ []); specs = ((record { is_void = false; name = name_main; params = ([]); vars = []; pre = (record { opened = []; facts = ([]); locals = []; items = ((Data (Number (pos 64)) (Global name_arr) (Of2 binary.Cons (Of unary.Vi (Number (pos 1))) (Of2 binary.Cons (Of unary.Vi (Number (pos 2))) (Of2 binary.Cons (Of unary.Vi (Number (pos 0))) (Of2 binary.Cons (Of unary.Vi (Number (pos 0))) Nil))))) ∷ (Data (Number (pos 64)) (Global name_x) (Of2 binary.Cons (Of unary.Vi (Number (pos 3))) Nil)) ∷ (Data (Number (pos 64)) (Global name_l) (Of2 binary.Cons (Of unary.Vi (Number (pos 0))) Nil)) ∷ []) }); post = (record { opened = (sort.List ∷ []); facts = ((Rel relation.Eq (Var 0 sort.Val) (Of unary.Vi (Number (pos 0)))) ∷ []); locals = []; items = ((Data (Number (pos 64)) (Global name_arr) (Of2 binary.Cons (Of unary.Vi (Number (pos 1))) (Of2 binary.Cons (Of unary.Vi (Number (pos 6))) (Of2 binary.Cons (Of unary.Vi (Number (pos 0))) (Of2 binary.Cons (Of unary.Vi (Number (pos 0))) Nil))))) ∷ (Data (Number (pos 64)) (Global name_x) (Var 1 sort.List)) ∷ (Data (Number (pos 64)) (Global name_l) (Of2 binary.Cons Undef Nil)) ∷ []) }) }) ∷ []) }) (record { is_void = false; name = name_main; params = ([]); vars = []; pre = (record { opened = []; facts = ([]); locals = []; items = ((Data (Number (pos 64)) (Global name_arr) (Of2 binary.Cons (Of unary.Vi (Number (pos 1))) (Of2 binary.Cons (Of unary.Vi (Number (pos 2))) (Of2 binary.Cons (Of unary.Vi (Number (pos 0))) (Of2 binary.Cons (Of unary.Vi (Number (pos 0))) Nil))))) ∷ (Data (Number (pos 64)) (Global name_x) (Of2 binary.Cons (Of unary.Vi (Number (pos 3))) Nil)) ∷ (Data (Number (pos 64)) (Global name_l) (Of2 binary.Cons (Of unary.Vi (Number (pos 0))) Nil)) ∷ []) }); post = (record { opened = (sort.List ∷ []); facts = ((Rel relation.Eq (Var 0 sort.Val) (Of unary.Vi (Number (pos 0)))) ∷ []); locals = []; items = ((Data (Number (pos 64)) (Global name_arr) (Of2 binary.Cons (Of unary.Vi (Number (pos 1))) (Of2 binary.Cons (Of unary.Vi (Number (pos 6))) (Of2 binary.Cons (Of unary.Vi (Number (pos 0))) (Of2 binary.Cons (Of unary.Vi (Number (pos 0))) Nil))))) ∷ (Data (Number (pos 64)) (Global name_x) (Var 1 sort.List)) ∷ (Data (Number (pos 64)) (Global name_l) (Of2 binary.Cons Undef Nil)) ∷ []) }) }) (record { temps = (name_s ∷ name_t ∷ name_i ∷ name_x1 ∷ name_d0 ∷ name_p1 ∷ name_q1 ∷ []); body = (c.Then (c.Set 0 (c.Const 3)) (c.Then (c.Set 1 (c.Const 0)) (c.Then (c.OnLock lock.Make (c.Address (root.Global name_l 1) c.Here)) (c.Then (c.OnLock lock.Release (c.Address (root.Global name_l 1) c.Here)) (c.Then (c.Store (root.Global name_arr 4) (c.Index kind.Signed (c.Const 1) c.Here) (c.Binary two.Mul kind.Signed (c.Const 2) (c.Const 3))) (c.Then (c.OnLock lock.Acquire (c.Address (root.Global name_l 1) c.Here)) (c.Then (c.Store (root.Global name_x 1) c.Here (c.Const 4)) (c.Then (c.OnLock lock.Release (c.Address (root.Global name_l 1) c.Here)) (c.Then (c.OnLock lock.Acquire (c.Address (root.Global name_l 1) c.Here)) (c.Then (c.OnLock lock.Free (c.Address (root.Global name_l 1) c.Here)) (c.Then (c.Return (Some (c.Temp 1))) c.End))))))))))) }) (s.Then 1 (s.Set ([]) ([])) s.NoBlock (s.Then 2 (s.Set ([]) ([])) s.NoBlock (s.Then 3 (s.MakeLock 2 (record { name = name_ov; args = ([]) }) ([]) ([])) s.NoBlock (s.Then 4 (s.Fold name_ov 0 ([]) ((Of unary.Vi (Number (pos 3))) ∷ []) ([])) s.NoBlock (s.Then 5 (s.Release 2 1 ([])) s.NoBlock (s.Then 6 (s.Bounds 1 None ([])) s.NoBlock (s.Then 7 (s.Store 0 ([]) ([])) s.NoBlock (s.Then 8 (s.Acquire 1 ([])) s.NoBlock (s.Then 9 (s.Unfold 3 ((name_k1 ∷ []) ∷ [])) (s.WithBlock (s.Then 10 (s.Store 3 ([]) ([])) s.NoBlock (s.Then 11 (s.Fold name_ov 0 ([]) ((Of unary.Vi (Number (pos 4))) ∷ []) ([])) s.NoBlock (s.Then 12 (s.Release 2 3 ([])) s.NoBlock (s.Then 13 (s.Acquire 1 ([])) s.NoBlock (s.Then 14 (s.Unfold 3 ((name_k2 ∷ []) ∷ [])) (s.WithBlock (s.Then 15 (s.FreeLock 1 2 ([]) ([])) s.NoBlock (s.Then 16 (s.Return ((Of2 binary.Cons (Named name_k2) Nil) ∷ []) ([]) ([])) s.NoBlock s.End)) s.NoBlock) s.End))))) s.NoBlock) s.End))))))))) ≡ (RefusedAt 5 18 1)
unfolding computing
random_837 = refl

random_838 : body_verdict (record { predicates = ((record { name = name_ov; args = ([]); cases = ((record { opened = (sort.Val ∷ []); facts = ([]); locals = []; items = ((Data (Number (pos 64)) (Global name_x) (Of2 binary.Cons (Var 0 sort.Val) Nil)) ∷ []) }) ∷ []) }) ∷ []); specs = ((record { is_void = false; name = name_main; params = ([]); vars = []; pre = (record { opened = []; facts = ([]); locals = []; items = ((Data (Number (pos 64)) (Global name_arr) (Of2 binary.Cons (Of unary.Vi (Number (pos 1))) (Of2 binary.Cons (Of unary.Vi (Number (pos 2))) (Of2 binary.Cons (Of unary.Vi (Number (pos 0))) (Of2 binary.Cons (Of unary.Vi (Number (pos 0))) Nil))))) ∷ (Data (Number (pos 64)) (Global name_x) (Of2 binary.Cons (Of unary.Vi (Number (pos 3))) Nil)) ∷ (Data (Number (pos 64)) (Global name_l) (Of2 binary.Cons (Of unary.Vi (Number (pos 0))) Nil)) ∷ []) }); post = (record { opened = (sort.List ∷ []); facts = ((Rel relation.Eq (Var 0 sort.Val) (Of unary.Vi (Number (pos 0)))) ∷ []); locals = []; items = ((Data (Number (pos 64)) (Global name_arr) (Of2 binary.Cons (Of unary.Vi (Number (pos 1))) (Of2 binary.Cons (Of unary.Vi (Number (pos 6))) (Of2 binary.Cons (Of unary.Vi (Number (pos 0))) (Of2 binary.Cons (Of unary.Vi (Number (pos 0))) Nil))))) ∷ (Data (Number (pos 64)) (Global name_x) (Var 1 sort.List)) ∷ (Data (Number (pos 64)) (Global name_l) (Of2 binary.Cons Undef Nil)) ∷ []) }) }) ∷ []) }) (record { is_void = false; name = name_main; params = ([]); vars = []; pre = (record { opened = []; facts = ([]); locals = []; items = ((Data (Number (pos 64)) (Global name_arr) (Of2 binary.Cons (Of unary.Vi (Number (pos 1))) (Of2 binary.Cons (Of unary.Vi (Number (pos 2))) (Of2 binary.Cons (Of unary.Vi (Number (pos 0))) (Of2 binary.Cons (Of unary.Vi (Number (pos 0))) Nil))))) ∷ (Data (Number (pos 64)) (Global name_x) (Of2 binary.Cons (Of unary.Vi (Number (pos 3))) Nil)) ∷ (Data (Number (pos 64)) (Global name_l) (Of2 binary.Cons (Of unary.Vi (Number (pos 0))) Nil)) ∷ []) }); post = (record { opened = (sort.List ∷ []); facts = ((Rel relation.Eq (Var 0 sort.Val) (Of unary.Vi (Number (pos 0)))) ∷ []); locals = []; items = ((Data (Number (pos 64)) (Global name_arr) (Of2 binary.Cons (Of unary.Vi (Number (pos 1))) (Of2 binary.Cons (Of unary.Vi (Number (pos 6))) (Of2 binary.Cons (Of unary.Vi (Number (pos 0))) (Of2 binary.Cons (Of unary.Vi (Number (pos 0))) Nil))))) ∷ (Data (Number (pos 64)) (Global name_x) (Var 1 sort.List)) ∷ (Data (Number (pos 64)) (Global name_l) (Of2 binary.Cons Undef Nil)) ∷ []) }) }) (record { temps = (name_s ∷ name_t ∷ name_i ∷ name_x1 ∷ name_d0 ∷ name_p1 ∷ name_q1 ∷ []); body = (c.Then (c.Set 0 (c.Const 3)) (c.Then (c.Set 1 (c.Const 0)) (c.Then (c.OnLock lock.Make (c.Address (root.Global name_l 1) c.Here)) (c.Then (c.OnLock lock.Release (c.Address (root.Global name_l 1) c.Here)) (c.Then (c.Store (root.Global name_arr 4) (c.Index kind.Signed (c.Const 1) c.Here) (c.Binary two.Mul kind.Signed (c.Const 2) (c.Const 3))) (c.Then (c.OnLock lock.Acquire (c.Address (root.Global name_l 1) c.Here)) (c.Then (c.Store (root.Global name_x 1) c.Here (c.Const 4)) (c.Then (c.OnLock lock.Release (c.Address (root.Global name_l 1) c.Here)) (c.Then (c.OnLock lock.Acquire (c.Address (root.Global name_l 1) c.Here)) (c.Then (c.OnLock lock.Free (c.Address (root.Global name_l 1) c.Here)) (c.Then (c.OnLock lock.Free (c.Address (root.Global name_l 1) c.Here)) (c.Then (c.Return (Some (c.Temp 1))) c.End)))))))))))) }) (s.Then 1 (s.Set ([]) ([])) s.NoBlock (s.Then 2 (s.Set ([]) ([])) s.NoBlock (s.Then 3 (s.MakeLock 2 (record { name = name_ov; args = ([]) }) ([]) ([])) s.NoBlock (s.Then 4 (s.Fold name_ov 0 ([]) ((Of unary.Vi (Number (pos 3))) ∷ []) ([])) s.NoBlock (s.Then 5 (s.Release 2 3 ([])) s.NoBlock (s.Then 6 (s.Store 0 ([]) ([])) s.NoBlock (s.Then 7 (s.Acquire 1 ([])) s.NoBlock (s.Then 8 (s.Unfold 3 ((name_k1 ∷ []) ∷ [])) (s.WithBlock (s.Then 9 (s.Store 3 ([]) ([])) s.NoBlock (s.Then 10 (s.Fold name_ov 0 ([]) ((Of unary.Vi (Number (pos 4))) ∷ []) ([])) s.NoBlock (s.Then 11 (s.Release 2 3 ([])) s.NoBlock (s.Then 12 (s.Acquire 1 ([])) s.NoBlock (s.Then 13 (s.Unfold 3 ((name_k2 ∷ []) ∷ [])) (s.WithBlock (s.Then 14 (s.FreeLock 1 2 ([]) ([])) s.NoBlock (s.Then 15 (s.Return ((Of2 binary.Cons (Named name_k2) Nil) ∷ []) ([]) ([])) s.NoBlock s.End)) s.NoBlock) s.End))))) s.NoBlock) s.End)))))))) ≡ (RefusedAt 15 9 1)
unfolding computing
random_838 = refl

random_839 : body_verdict (record { predicates = ((record { name = name_ov; args = ([]); cases = ((record { opened = (sort.Val ∷ []); facts = ([]); locals = []; items = ((Data (Number (pos 64)) (Global name_x) (Of2 binary.Cons (Var 0 sort.Val) Nil)) ∷ []) }) ∷ []) }) ∷ []); specs = ((record { is_void = false; name = name_main; params = ([]); vars = []; pre = (record { opened = []; facts = ([]); locals = []; items = ((Data (Number (pos 64)) (Global name_arr) (Of2 binary.Cons (Of unary.Vi (Number (pos 1))) (Of2 binary.Cons (Of unary.Vi (Number (pos 2))) (Of2 binary.Cons (Of unary.Vi (Number (pos 0))) (Of2 binary.Cons (Of unary.Vi (Number (pos 0))) Nil))))) ∷ (Data (Number (pos 64)) (Global name_x) (Of2 binary.Cons (Of unary.Vi (Number (pos 3))) Nil)) ∷ (Data (Number (pos 64)) (Global name_l) (Of2 binary.Cons (Of unary.Vi (Number (pos 0))) Nil)) ∷ []) }); post = (record { opened = (sort.List ∷ []); facts = ((Rel relation.Eq (Var 0 sort.Val) (Of unary.Vi (Number (pos 0)))) ∷ []); locals = []; items = ((Data (Number (pos 64)) (Global name_arr) (Of2 binary.Cons (Of unary.Vi (Number (pos 1))) (Of2 binary.Cons (Of unary.Vi (Number (pos 6))) (Of2 binary.Cons (Of unary.Vi (Number (pos 0))) (Of2 binary.Cons (Of unary.Vi (Number (pos 0))) Nil))))) ∷ (Data (Number (pos 64)) (Global name_x) (Var 1 sort.List)) ∷ (Data (Number (pos 64)) (Global name_l) (Of2 binary.Cons Undef Nil)) ∷ []) }) }) ∷ []) }) (record { is_void = false; name = name_main; params = ([]); vars = []; pre = (record { opened = []; facts = ([]); locals = []; items = ((Data (Number (pos 64)) (Global name_arr) (Of2 binary.Cons (Of unary.Vi (Number (pos 1))) (Of2 binary.Cons (Of unary.Vi (Number (pos 2))) (Of2 binary.Cons (Of unary.Vi (Number (pos 0))) (Of2 binary.Cons (Of unary.Vi (Number (pos 0))) Nil))))) ∷ (Data (Number (pos 64)) (Global name_x) (Of2 binary.Cons (Of unary.Vi (Number (pos 3))) Nil)) ∷ (Data (Number (pos 64)) (Global name_l) (Of2 binary.Cons (Of unary.Vi (Number (pos 0))) Nil)) ∷ []) }); post = (record { opened = (sort.List ∷ []); facts = ((Rel relation.Eq (Var 0 sort.Val) (Of unary.Vi (Number (pos 0)))) ∷ []); locals = []; items = ((Data (Number (pos 64)) (Global name_arr) (Of2 binary.Cons (Of unary.Vi (Number (pos 1))) (Of2 binary.Cons (Of unary.Vi (Number (pos 6))) (Of2 binary.Cons (Of unary.Vi (Number (pos 0))) (Of2 binary.Cons (Of unary.Vi (Number (pos 0))) Nil))))) ∷ (Data (Number (pos 64)) (Global name_x) (Var 1 sort.List)) ∷ (Data (Number (pos 64)) (Global name_l) (Of2 binary.Cons Undef Nil)) ∷ []) }) }) (record { temps = (name_s ∷ name_t ∷ name_i ∷ name_x1 ∷ name_d0 ∷ name_p1 ∷ name_q1 ∷ []); body = (c.Then (c.Set 0 (c.Const 3)) (c.Then (c.Set 1 (c.Const 0)) (c.Then (c.OnLock lock.Make (c.Address (root.Global name_l 1) c.Here)) (c.Then (c.OnLock lock.Release (c.Address (root.Global name_l 1) c.Here)) (c.Then (c.Store (root.Global name_arr 4) (c.Index kind.Signed (c.Const 1) c.Here) (c.Binary two.Mul kind.Signed (c.Const 2) (c.Const 3))) (c.Then (c.OnLock lock.Acquire (c.Address (root.Global name_l 1) c.Here)) (c.Then (c.Store (root.Global name_x 1) c.Here (c.Const 4)) (c.Then (c.OnLock lock.Release (c.Address (root.Global name_l 1) c.Here)) (c.Then (c.OnLock lock.Acquire (c.Address (root.Global name_l 1) c.Here)) (c.Then (c.OnLock lock.Free (c.Address (root.Global name_l 1) c.Here)) (c.Then (c.Return (Some (c.Temp 1))) c.End))))))))))) }) (s.Then 1 (s.Set ([]) ([])) s.NoBlock (s.Then 2 (s.Set ([]) ([])) s.NoBlock (s.Then 3 (s.MakeLock 2 (record { name = name_ov; args = ([]) }) ([]) ([])) s.NoBlock (s.Then 4 (s.Fold name_ov 0 ([]) ((Of unary.Vi (Number (pos 3))) ∷ []) ([])) s.NoBlock (s.Then 5 (s.Release 2 3 ([])) s.NoBlock (s.Then 6 (s.Bounds 1 None ([])) s.NoBlock (s.Then 7 (s.Store 0 ([]) ([])) s.NoBlock (s.Then 8 (s.Acquire 1 ([])) s.NoBlock (s.Then 9 (s.Unfold 3 ((name_k1 ∷ []) ∷ [])) (s.WithBlock (s.Then 10 (s.Store 3 ([]) ([])) s.NoBlock (s.Then 11 (s.Fold name_ov 0 ([]) ((Of unary.Vi (Number (pos 4))) ∷ []) ([])) s.NoBlock (s.Then 12 (s.Release 2 3 ([])) s.NoBlock (s.Then 13 (s.Acquire 1 ([])) s.NoBlock (s.Then 14 (s.Unfold 1 ((name_k2 ∷ []) ∷ [])) (s.WithBlock (s.Then 15 (s.FreeLock 1 2 ([]) ([])) s.NoBlock (s.Then 16 (s.Return ((Of2 binary.Cons (Named name_k2) Nil) ∷ []) ([]) ([])) s.NoBlock s.End)) s.NoBlock) s.End))))) s.NoBlock) s.End))))))))) ≡ (RefusedAt 14 22 1)
unfolding computing
random_839 = refl

random_840 : body_verdict (record { predicates = ((record { name = name_ov; args = ([]); cases = ((record { opened = (sort.Val ∷ []); facts = ([]); locals = []; items = ((Data (Number (pos 64)) (Global name_x) (Of2 binary.Cons (Var 0 sort.Val) Nil)) ∷ []) }) ∷ []) }) ∷ []); specs = ((record { is_void = false; name = name_main; params = ([]); vars = []; pre = (record { opened = []; facts = ([]); locals = []; items = ((Data (Number (pos 64)) (Global name_arr) (Of2 binary.Cons (Of unary.Vi (Number (pos 1))) (Of2 binary.Cons (Of unary.Vi (Number (pos 2))) (Of2 binary.Cons (Of unary.Vi (Number (pos 0))) (Of2 binary.Cons (Of unary.Vi (Number (pos 0))) Nil))))) ∷ (Data (Number (pos 64)) (Global name_x) (Of2 binary.Cons (Of unary.Vi (Number (pos 3))) Nil)) ∷ (Data (Number (pos 64)) (Global name_l) (Of2 binary.Cons (Of unary.Vi (Number (pos 0))) Nil)) ∷ []) }); post = (record { opened = (sort.List ∷ []); facts = ((Rel relation.Eq (Var 0 sort.Val) (Of unary.Vi (Number (pos 0)))) ∷ []); locals = []; items = ((Data (Number (pos 64)) (Global name_arr) (Of2 binary.Cons (Of unary.Vi (Number (pos 1))) (Of2 binary.Cons (Of unary.Vi (Number (pos 6))) (Of2 binary.Cons (Of unary.Vi (Number (pos 0))) (Of2 binary.Cons (Of unary.Vi (Number (pos 0))) Nil))))) ∷ (Data (Number (pos 64)) (Global name_x) (Var 1 sort.List)) ∷ (Data (Number (pos 64)) (Global name_l) (Of2 binary.Cons Undef Nil)) ∷ []) }) }) ∷ []) }) (record { is_void = false; name = name_main; params = ([]); vars = []; pre = (record { opened = []; facts = ([]); locals = []; items = ((Data (Number (pos 64)) (Global name_arr) (Of2 binary.Cons (Of unary.Vi (Number (pos 1))) (Of2 binary.Cons (Of unary.Vi (Number (pos 2))) (Of2 binary.Cons (Of unary.Vi (Number (pos 0))) (Of2 binary.Cons (Of unary.Vi (Number (pos 0))) Nil))))) ∷ (Data (Number (pos 64)) (Global name_x) (Of2 binary.Cons (Of unary.Vi (Number (pos 3))) Nil)) ∷ (Data (Number (pos 64)) (Global name_l) (Of2 binary.Cons (Of unary.Vi (Number (pos 0))) Nil)) ∷ []) }); post = (record { opened = (sort.List ∷ []); facts = ((Rel relation.Eq (Var 0 sort.Val) (Of unary.Vi (Number (pos 0)))) ∷ []); locals = []; items = ((Data (Number (pos 64)) (Global name_arr) (Of2 binary.Cons (Of unary.Vi (Number (pos 1))) (Of2 binary.Cons (Of unary.Vi (Number (pos 6))) (Of2 binary.Cons (Of unary.Vi (Number (pos 0))) (Of2 binary.Cons (Of unary.Vi (Number (pos 0))) Nil))))) ∷ (Data (Number (pos 64)) (Global name_x) (Var 1 sort.List)) ∷ (Data (Number (pos 64)) (Global name_l) (Of2 binary.Cons Undef Nil)) ∷ []) }) }) (record { temps = (name_s ∷ name_t ∷ name_i ∷ name_x1 ∷ name_d0 ∷ name_p1 ∷ name_q1 ∷ []); body = (c.Then (c.Set 0 (c.Const 3)) (c.Then (c.Set 1 (c.Const 0)) (c.Then (c.OnLock lock.Make (c.Address (root.Global name_l 1) c.Here)) (c.Then (c.OnLock lock.Release (c.Address (root.Global name_l 1) c.Here)) (c.Then (c.Store (root.Global name_arr 4) (c.Index kind.Signed (c.Const 1) c.Here) (c.Binary two.Mul kind.Signed (c.Const 2) (c.Const 3))) (c.Then (c.OnLock lock.Acquire (c.Address (root.Global name_l 1) c.Here)) (c.Then (c.Store (root.Global name_x 1) c.Here (c.Const 4)) (c.Then (c.OnLock lock.Release (c.Address (root.Global name_l 1) c.Here)) (c.Then (c.OnLock lock.Acquire (c.Address (root.Global name_l 1) c.Here)) (c.Then (c.OnLock lock.Free (c.Address (root.Global name_l 1) c.Here)) (c.Then (c.Return (Some (c.Temp 1))) c.End))))))))))) }) (s.Then 1 (s.Set ([]) ([])) s.NoBlock (s.Then 2 (s.Set ([]) ([])) s.NoBlock (s.Then 3 (s.MakeLock 2 (record { name = name_ov; args = ([]) }) ([]) ([])) s.NoBlock (s.Then 4 (s.Fold name_ov 0 ([]) ((Of unary.Vi (Number (pos 3))) ∷ []) ([])) s.NoBlock (s.Then 5 (s.Release 2 3 ([])) s.NoBlock (s.Then 6 (s.Bounds 2 None ([])) s.NoBlock (s.Then 7 (s.Store 0 ([]) ([])) s.NoBlock (s.Then 8 (s.Acquire 1 ([])) s.NoBlock (s.Then 9 (s.Unfold 3 ((name_k1 ∷ []) ∷ [])) (s.WithBlock (s.Then 10 (s.Store 3 ([]) ([])) s.NoBlock (s.Then 11 (s.Fold name_ov 0 ([]) ((Of unary.Vi (Number (pos 4))) ∷ []) ([])) s.NoBlock (s.Then 12 (s.Release 2 3 ([])) s.NoBlock (s.Then 13 (s.Acquire 1 ([])) s.NoBlock (s.Then 14 (s.Unfold 3 ((name_k2 ∷ []) ∷ [])) (s.WithBlock (s.Then 15 (s.FreeLock 1 2 ([]) ([])) s.NoBlock (s.Then 16 (s.Return ((Of2 binary.Cons (Named name_k2) Nil) ∷ []) ([]) ([])) s.NoBlock s.End)) s.NoBlock) s.End))))) s.NoBlock) s.End))))))))) ≡ (RefusedAt 6 34 1)
unfolding computing
random_840 = refl

random_841 : body_verdict (record { predicates = ((record { name = name_ov; args = ([]); cases = ((record { opened = (sort.Val ∷ []); facts = ([]); locals = []; items = ((Data (Number (pos 64)) (Global name_x) (Of2 binary.Cons (Var 0 sort.Val) Nil)) ∷ []) }) ∷ []) }) ∷ []); specs = ((record { is_void = false; name = name_main; params = ([]); vars = []; pre = (record { opened = []; facts = ([]); locals = []; items = ((Data (Number (pos 64)) (Global name_arr) (Of2 binary.Cons (Of unary.Vi (Number (pos 1))) (Of2 binary.Cons (Of unary.Vi (Number (pos 2))) (Of2 binary.Cons (Of unary.Vi (Number (pos 0))) (Of2 binary.Cons (Of unary.Vi (Number (pos 0))) Nil))))) ∷ (Data (Number (pos 64)) (Global name_x) (Of2 binary.Cons (Of unary.Vi (Number (pos 3))) Nil)) ∷ (Data (Number (pos 64)) (Global name_l) (Of2 binary.Cons (Of unary.Vi (Number (pos 0))) Nil)) ∷ []) }); post = (record { opened = (sort.List ∷ []); facts = ((Rel relation.Eq (Var 0 sort.Val) (Of unary.Vi (Number (pos 0)))) ∷ []); locals = []; items = ((Data (Number (pos 64)) (Global name_arr) (Of2 binary.Cons (Of unary.Vi (Number (pos 1))) (Of2 binary.Cons (Of unary.Vi (Number (pos 6))) (Of2 binary.Cons (Of unary.Vi (Number (pos 0))) (Of2 binary.Cons (Of unary.Vi (Number (pos 0))) Nil))))) ∷ (Data (Number (pos 64)) (Global name_x) (Var 1 sort.List)) ∷ (Data (Number (pos 64)) (Global name_l) (Of2 binary.Cons Undef Nil)) ∷ []) }) }) ∷ []) }) (record { is_void = false; name = name_main; params = ([]); vars = []; pre = (record { opened = []; facts = ([]); locals = []; items = ((Data (Number (pos 64)) (Global name_arr) (Of2 binary.Cons (Of unary.Vi (Number (pos 1))) (Of2 binary.Cons (Of unary.Vi (Number (pos 2))) (Of2 binary.Cons (Of unary.Vi (Number (pos 0))) (Of2 binary.Cons (Of unary.Vi (Number (pos 0))) Nil))))) ∷ (Data (Number (pos 64)) (Global name_x) (Of2 binary.Cons (Of unary.Vi (Number (pos 3))) Nil)) ∷ (Data (Number (pos 64)) (Global name_l) (Of2 binary.Cons (Of unary.Vi (Number (pos 0))) Nil)) ∷ []) }); post = (record { opened = (sort.List ∷ []); facts = ((Rel relation.Eq (Var 0 sort.Val) (Of unary.Vi (Number (pos 0)))) ∷ []); locals = []; items = ((Data (Number (pos 64)) (Global name_arr) (Of2 binary.Cons (Of unary.Vi (Number (pos 1))) (Of2 binary.Cons (Of unary.Vi (Number (pos 6))) (Of2 binary.Cons (Of unary.Vi (Number (pos 0))) (Of2 binary.Cons (Of unary.Vi (Number (pos 0))) Nil))))) ∷ (Data (Number (pos 64)) (Global name_x) (Var 1 sort.List)) ∷ (Data (Number (pos 64)) (Global name_l) (Of2 binary.Cons Undef Nil)) ∷ []) }) }) (record { temps = (name_s ∷ name_t ∷ name_i ∷ name_x1 ∷ name_d0 ∷ name_p1 ∷ name_q1 ∷ []); body = (c.Then (c.Set 0 (c.Const 3)) (c.Then (c.Set 1 (c.Const 0)) (c.Then (c.OnLock lock.Make (c.Address (root.Global name_l 1) c.Here)) (c.Then (c.OnLock lock.Release (c.Address (root.Global name_l 1) c.Here)) (c.Then (c.Store (root.Global name_arr 4) (c.Index kind.Signed (c.Const 1) c.Here) (c.Binary two.Mul kind.Signed (c.Const 2) (c.Const 2))) (c.Then (c.OnLock lock.Acquire (c.Address (root.Global name_l 1) c.Here)) (c.Then (c.Store (root.Global name_x 1) c.Here (c.Const 4)) (c.Then (c.OnLock lock.Release (c.Address (root.Global name_l 1) c.Here)) (c.Then (c.OnLock lock.Acquire (c.Address (root.Global name_l 1) c.Here)) (c.Then (c.OnLock lock.Free (c.Address (root.Global name_l 1) c.Here)) (c.Then (c.Return (Some (c.Temp 1))) c.End))))))))))) }) (s.Then 1 (s.Set ([]) ([])) s.NoBlock (s.Then 2 (s.Set ([]) ([])) s.NoBlock (s.Then 3 (s.MakeLock 2 (record { name = name_ov; args = ([]) }) ([]) ([])) s.NoBlock (s.Then 4 (s.Fold name_ov 0 ([]) ((Of unary.Vi (Number (pos 3))) ∷ []) ([])) s.NoBlock (s.Then 5 (s.Release 2 3 ([])) s.NoBlock (s.Then 6 (s.Bounds 1 None ([])) s.NoBlock (s.Then 7 (s.Store 0 ([]) ([])) s.NoBlock (s.Then 8 (s.Acquire 1 ([])) s.NoBlock (s.Then 9 (s.Unfold 3 ((name_k1 ∷ []) ∷ [])) (s.WithBlock (s.Then 10 (s.Store 3 ([]) ([])) s.NoBlock (s.Then 11 (s.Fold name_ov 0 ([]) ((Of unary.Vi (Number (pos 4))) ∷ []) ([])) s.NoBlock (s.Then 12 (s.Release 2 3 ([])) s.NoBlock (s.Then 13 (s.Acquire 1 ([])) s.NoBlock (s.Then 14 (s.Unfold 3 ((name_k2 ∷ []) ∷ [])) (s.WithBlock (s.Then 15 (s.FreeLock 1 2 ([]) ([])) s.NoBlock (s.Then 16 (s.Return ((Of2 binary.Cons (Named name_k2) Nil) ∷ []) ([]) ([])) s.NoBlock s.End)) s.NoBlock) s.End))))) s.NoBlock) s.End))))))))) ≡ (RefusedAt 16 9 5)
unfolding computing
random_841 = refl

random_842 : body_verdict (record { predicates = ((record { name = name_ov; args = ([]); cases = ((record { opened = (sort.Val ∷ []); facts = ([]); locals = []; items = ((Data (Number (pos 64)) (Global name_x) (Of2 binary.Cons (Var 0 sort.Val) Nil)) ∷ []) }) ∷ []) }) ∷ []); specs = ((record { is_void = false; name = name_main; params = ([]); vars = []; pre = (record { opened = []; facts = ([]); locals = []; items = ((Data (Number (pos 64)) (Global name_arr) (Of2 binary.Cons (Of unary.Vi (Number (pos 1))) (Of2 binary.Cons (Of unary.Vi (Number (pos 2))) (Of2 binary.Cons (Of unary.Vi (Number (pos 0))) (Of2 binary.Cons (Of unary.Vi (Number (pos 0))) Nil))))) ∷ (Data (Number (pos 64)) (Global name_x) (Of2 binary.Cons (Of unary.Vi (Number (pos 3))) Nil)) ∷ (Data (Number (pos 64)) (Global name_l) (Of2 binary.Cons (Of unary.Vi (Number (pos 0))) Nil)) ∷ []) }); post = (record { opened = (sort.List ∷ []); facts = ((Rel relation.Eq (Var 0 sort.Val) (Of unary.Vi (Number (pos 0)))) ∷ []); locals = []; items = ((Data (Number (pos 64)) (Global name_arr) (Of2 binary.Cons (Of unary.Vi (Number (pos 1))) (Of2 binary.Cons (Of unary.Vi (Number (pos 6))) (Of2 binary.Cons (Of unary.Vi (Number (pos 0))) (Of2 binary.Cons (Of unary.Vi (Number (pos 0))) Nil))))) ∷ (Data (Number (pos 64)) (Global name_x) (Var 1 sort.List)) ∷ (Data (Number (pos 64)) (Global name_l) (Of2 binary.Cons Undef Nil)) ∷ []) }) }) ∷ []) }) (record { is_void = false; name = name_main; params = ([]); vars = []; pre = (record { opened = []; facts = ([]); locals = []; items = ((Data (Number (pos 64)) (Global name_arr) (Of2 binary.Cons (Of unary.Vi (Number (pos 1))) (Of2 binary.Cons (Of unary.Vi (Number (pos 2))) (Of2 binary.Cons (Of unary.Vi (Number (pos 0))) (Of2 binary.Cons (Of unary.Vi (Number (pos 0))) Nil))))) ∷ (Data (Number (pos 64)) (Global name_x) (Of2 binary.Cons (Of unary.Vi (Number (pos 3))) Nil)) ∷ (Data (Number (pos 64)) (Global name_l) (Of2 binary.Cons (Of unary.Vi (Number (pos 0))) Nil)) ∷ []) }); post = (record { opened = (sort.List ∷ []); facts = ((Rel relation.Eq (Var 0 sort.Val) (Of unary.Vi (Number (pos 0)))) ∷ []); locals = []; items = ((Data (Number (pos 64)) (Global name_arr) (Of2 binary.Cons (Of unary.Vi (Number (pos 1))) (Of2 binary.Cons (Of unary.Vi (Number (pos 6))) (Of2 binary.Cons (Of unary.Vi (Number (pos 0))) (Of2 binary.Cons (Of unary.Vi (Number (pos 0))) Nil))))) ∷ (Data (Number (pos 64)) (Global name_x) (Var 1 sort.List)) ∷ (Data (Number (pos 64)) (Global name_l) (Of2 binary.Cons Undef Nil)) ∷ []) }) }) (record { temps = (name_s ∷ name_t ∷ name_i ∷ name_x1 ∷ name_d0 ∷ name_p1 ∷ name_q1 ∷ []); body = (c.Then (c.Set 0 (c.Const 3)) (c.Then (c.Set 1 (c.Const 0)) (c.Then (c.OnLock lock.Make (c.Address (root.Global name_l 1) c.Here)) (c.Then (c.OnLock lock.Release (c.Address (root.Global name_l 1) c.Here)) (c.Then (c.Store (root.Global name_arr 4) (c.Index kind.Signed (c.Const 1) c.Here) (c.Binary two.Mul kind.Signed (c.Const 2) (c.Const 3))) (c.Then (c.OnLock lock.Acquire (c.Address (root.Global name_l 1) c.Here)) (c.Then (c.Store (root.Global name_x 1) c.Here (c.Const 4)) (c.Then (c.OnLock lock.Release (c.Address (root.Global name_l 1) c.Here)) (c.Then (c.OnLock lock.Acquire (c.Address (root.Global name_l 1) c.Here)) (c.Then (c.OnLock lock.Free (c.Address (root.Global name_l 1) c.Here)) (c.Then (c.Return (Some (c.Temp 1))) c.End))))))))))) }) (s.Then 1 (s.Set ([]) ([])) s.NoBlock (s.Then 2 (s.Set ([]) ([])) s.NoBlock (s.Then 3 (s.MakeLock 2 (record { name = name_ov; args = ([]) }) ([]) ([])) s.NoBlock (s.Then 4 (s.Fold name_ov 0 ([]) ((Of unary.Vi (Number (pos 3))) ∷ []) ([])) s.NoBlock (s.Then 5 (s.Release 2 3 ([])) s.NoBlock (s.Then 6 (s.Bounds 1 None ([])) s.NoBlock (s.Then 7 (s.Store 0 ([]) ([])) s.NoBlock (s.Then 8 (s.Acquire 1 ([])) s.NoBlock (s.Then 9 (s.Unfold 3 ((name_k1 ∷ []) ∷ [])) (s.WithBlock (s.Then 10 (s.Store 3 ([]) ([])) s.NoBlock (s.Then 11 (s.Fold name_ov 0 ([]) ((Of unary.Vi (Number (pos 4))) ∷ []) ([])) s.NoBlock (s.Then 12 (s.Acquire 1 ([])) s.NoBlock (s.Then 13 (s.Release 2 3 ([])) s.NoBlock (s.Then 14 (s.Acquire 1 ([])) s.NoBlock (s.Then 15 (s.Unfold 3 ((name_k2 ∷ []) ∷ [])) (s.WithBlock (s.Then 16 (s.FreeLock 1 2 ([]) ([])) s.NoBlock (s.Then 17 (s.Return ((Of2 binary.Cons (Named name_k2) Nil) ∷ []) ([]) ([])) s.NoBlock s.End)) s.NoBlock) s.End)))))) s.NoBlock) s.End))))))))) ≡ (RefusedAt 12 17 1)
unfolding computing
random_842 = refl

random_843 : body_verdict (record { predicates = ((record { name = name_ov; args = ([]); cases = ((record { opened = (sort.Val ∷ []); facts = ([]); locals = []; items = ((Data (Number (pos 64)) (Global name_x) (Of2 binary.Cons (Var 0 sort.Val) Nil)) ∷ []) }) ∷ []) }) ∷ []); specs = ((record { is_void = false; name = name_main; params = ([]); vars = []; pre = (record { opened = []; facts = ([]); locals = []; items = ((Data (Number (pos 64)) (Global name_arr) (Of2 binary.Cons (Of unary.Vi (Number (pos 1))) (Of2 binary.Cons (Of unary.Vi (Number (pos 2))) (Of2 binary.Cons (Of unary.Vi (Number (pos 0))) (Of2 binary.Cons (Of unary.Vi (Number (pos 0))) Nil))))) ∷ (Data (Number (pos 64)) (Global name_x) (Of2 binary.Cons (Of unary.Vi (Number (pos 3))) Nil)) ∷ (Data (Number (pos 64)) (Global name_l) (Of2 binary.Cons (Of unary.Vi (Number (pos 0))) Nil)) ∷ []) }); post = (record { opened = (sort.List ∷ []); facts = ((Rel relation.Eq (Var 0 sort.Val) (Of unary.Vi (Number (pos 0)))) ∷ []); locals = []; items = ((Data (Number (pos 64)) (Global name_arr) (Of2 binary.Cons (Of unary.Vi (Number (pos 1))) (Of2 binary.Cons (Of unary.Vi (Number (pos 6))) (Of2 binary.Cons (Of unary.Vi (Number (pos 0))) (Of2 binary.Cons (Of unary.Vi (Number (pos 0))) Nil))))) ∷ (Data (Number (pos 64)) (Global name_x) (Var 1 sort.List)) ∷ (Data (Number (pos 64)) (Global name_l) (Of2 binary.Cons Undef Nil)) ∷ []) }) }) ∷ []) }) (record { is_void = false; name = name_main; params = ([]); vars = []; pre = (record { opened = []; facts = ([]); locals = []; items = ((Data (Number (pos 64)) (Global name_arr) (Of2 binary.Cons (Of unary.Vi (Number (pos 1))) (Of2 binary.Cons (Of unary.Vi (Number (pos 2))) (Of2 binary.Cons (Of unary.Vi (Number (pos 0))) (Of2 binary.Cons (Of unary.Vi (Number (pos 0))) Nil))))) ∷ (Data (Number (pos 64)) (Global name_x) (Of2 binary.Cons (Of unary.Vi (Number (pos 3))) Nil)) ∷ (Data (Number (pos 64)) (Global name_l) (Of2 binary.Cons (Of unary.Vi (Number (pos 0))) Nil)) ∷ []) }); post = (record { opened = (sort.List ∷ []); facts = ((Rel relation.Eq (Var 0 sort.Val) (Of unary.Vi (Number (pos 0)))) ∷ []); locals = []; items = ((Data (Number (pos 64)) (Global name_arr) (Of2 binary.Cons (Of unary.Vi (Number (pos 1))) (Of2 binary.Cons (Of unary.Vi (Number (pos 6))) (Of2 binary.Cons (Of unary.Vi (Number (pos 0))) (Of2 binary.Cons (Of unary.Vi (Number (pos 0))) Nil))))) ∷ (Data (Number (pos 64)) (Global name_x) (Var 1 sort.List)) ∷ (Data (Number (pos 64)) (Global name_l) (Of2 binary.Cons Undef Nil)) ∷ []) }) }) (record { temps = (name_s ∷ name_t ∷ name_i ∷ name_x1 ∷ name_d0 ∷ name_p1 ∷ name_q1 ∷ []); body = (c.Then (c.Set 0 (c.Const 3)) (c.Then (c.Set 1 (c.Const 0)) (c.Then (c.OnLock lock.Make (c.Address (root.Global name_l 1) c.Here)) (c.Then (c.OnLock lock.Release (c.Address (root.Global name_l 1) c.Here)) (c.Then (c.Store (root.Global name_arr 4) (c.Index kind.Signed (c.Const 1) c.Here) (c.Binary two.Mul kind.Signed (c.Const 2) (c.Const 3))) (c.Then (c.OnLock lock.Acquire (c.Address (root.Global name_l 1) c.Here)) (c.Then (c.Store (root.Global name_x 1) c.Here (c.Const 4)) (c.Then (c.OnLock lock.Release (c.Address (root.Global name_l 1) c.Here)) (c.Then (c.OnLock lock.Acquire (c.Address (root.Global name_l 1) c.Here)) (c.Then (c.OnLock lock.Free (c.Address (root.Global name_l 1) c.Here)) (c.Then (c.Return (Some (c.Temp 1))) c.End))))))))))) }) (s.Then 1 (s.Set ([]) ([])) s.NoBlock (s.Then 2 (s.Set ([]) ([])) s.NoBlock (s.Then 3 (s.MakeLock 2 (record { name = name_ov; args = ([]) }) ([]) ([])) s.NoBlock (s.Then 4 (s.Fold name_ov 0 ([]) ((Of unary.Vi (Number (pos 3))) ∷ []) ([])) s.NoBlock (s.Then 5 (s.Release 2 3 ([])) s.NoBlock (s.Then 6 (s.Bounds 1 None ([])) s.NoBlock (s.Then 7 (s.Store 0 ([]) ([])) s.NoBlock (s.Then 8 (s.Acquire 1 ([])) s.NoBlock (s.Then 9 (s.Unfold 3 ((name_k1 ∷ []) ∷ [])) (s.WithBlock (s.Then 10 (s.Store 3 ([]) ([])) s.NoBlock (s.Then 11 (s.Fold name_ov 0 ([]) ((Of unary.Vi (Number (pos 4))) ∷ []) ([])) s.NoBlock (s.Then 12 (s.Release 1 3 ([])) s.NoBlock (s.Then 13 (s.Acquire 1 ([])) s.NoBlock (s.Then 14 (s.Unfold 3 ((name_k2 ∷ []) ∷ [])) (s.WithBlock (s.Then 15 (s.FreeLock 1 2 ([]) ([])) s.NoBlock (s.Then 16 (s.Return ((Of2 binary.Cons (Named name_k2) Nil) ∷ []) ([]) ([])) s.NoBlock s.End)) s.NoBlock) s.End))))) s.NoBlock) s.End))))))))) ≡ (RefusedAt 12 18 1)
unfolding computing
random_843 = refl

random_844 : body_verdict (record { predicates = ([]); specs = ((record { is_void = false; name = name_main; params = ([]); vars = []; pre = (record { opened = []; facts = ([]); locals = []; items = ((Data (Number (pos 64)) (Global name_g) (Of2 binary.Cons (Of unary.Vi (Number (pos 3))) Nil)) ∷ (Data (Number (pos 64)) (Global name_x) (Of2 binary.Cons (Of unary.Vi (Number (pos 3))) Nil)) ∷ []) }); post = (record { opened = (sort.List ∷ []); facts = ([]); locals = []; items = ((Data (Number (pos 64)) (Global name_g) (Var 1 sort.List)) ∷ (Data (Number (pos 64)) (Global name_x) (Var 1 sort.List)) ∷ []) }) }) ∷ []) }) (record { is_void = false; name = name_main; params = ([]); vars = []; pre = (record { opened = []; facts = ([]); locals = []; items = ((Data (Number (pos 64)) (Global name_g) (Of2 binary.Cons (Of unary.Vi (Number (pos 3))) Nil)) ∷ (Data (Number (pos 64)) (Global name_x) (Of2 binary.Cons (Of unary.Vi (Number (pos 3))) Nil)) ∷ []) }); post = (record { opened = (sort.List ∷ []); facts = ([]); locals = []; items = ((Data (Number (pos 64)) (Global name_g) (Var 1 sort.List)) ∷ (Data (Number (pos 64)) (Global name_x) (Var 1 sort.List)) ∷ []) }) }) (record { temps = (name_s ∷ name_t ∷ name_i ∷ name_x1 ∷ name_d0 ∷ name_p1 ∷ name_q1 ∷ []); body = (c.Then (c.Set 0 (c.Const 0)) (c.Then (c.Set 1 (c.Const 2)) (c.Then (c.Malloc 5 3) (c.Then (c.If (c.Pointers (c.Temp 5) (c.Const 0) true) (c.Then (c.Return (Some (c.Const 0))) c.End) c.End) (c.Then (c.Store (root.Temp 5) (c.Offset 0 c.Here) (c.Const 1)) (c.Then (c.Load 1 (root.Temp 5) (c.Offset 0 c.Here)) (c.Then (c.Free (c.Temp 5)) (c.Then (c.Set 3 (c.Binary two.Add kind.Unsigned (c.Const 4294967295) (c.Const 1))) (c.Then (c.Return (Some (c.Temp 0))) c.End))))))))) }) (s.Then 1 (s.Set ([]) ([])) s.NoBlock (s.Then 2 (s.Set ([]) ([])) s.NoBlock (s.Then 3 (s.Malloc name_k1 ([]) ([])) (s.WithBlock (s.Then 4 (s.If ([]) ([]) ([]) ([])) (s.WithBlock (s.Then 5 (s.Return ((Of2 binary.Cons (Of unary.Vi (Number (pos 3))) Nil) ∷ []) ([]) ([])) s.NoBlock s.End) (s.WithBlock (s.Then 6 (s.Absurd ([])) s.NoBlock s.End) s.NoBlock)) s.End) (s.WithBlock (s.Then 7 (s.If (2 ∷ []) ([]) ([]) ([])) (s.WithBlock (s.Then 8 (s.Subst name_k1) s.NoBlock (s.Then 9 (s.Absurd ([])) s.NoBlock s.End)) (s.WithBlock (s.Then 10 (s.Store 2 ([]) ([])) s.NoBlock (s.Then 11 (s.Load 2 ([]) ([])) s.NoBlock (s.Then 12 (s.Free 2 3 ([])) s.NoBlock (s.Then 13 (s.Set ([]) ([])) s.NoBlock (s.Then 14 (s.Return ((Of2 binary.Cons (Of unary.Vi (Number (pos 3))) Nil) ∷ []) ([]) ([])) s.NoBlock s.End))))) s.NoBlock)) s.End) s.NoBlock)) s.End))) ≡ Accepted
unfolding computing
random_844 = refl

random_845 : body_verdict (record { predicates = ([]); specs = ((record { is_void = false; name = name_main; params = ([]); vars = []; pre = (record { opened = []; facts = ([]); locals = []; items = ((Data (Number (pos 64)) (Global name_g) (Of2 binary.Cons (Of unary.Vi (Number (pos 3))) Nil)) ∷ (Data (Number (pos 64)) (Global name_x) (Of2 binary.Cons (Of unary.Vi (Number (pos 3))) Nil)) ∷ []) }); post = (record { opened = (sort.List ∷ []); facts = ([]); locals = []; items = ((Data (Number (pos 64)) (Global name_g) (Var 1 sort.List)) ∷ (Data (Number (pos 64)) (Global name_x) (Var 1 sort.List)) ∷ []) }) }) ∷ []) }) (record { is_void = false; name = name_main; params = ([]); vars = []; pre = (record { opened = []; facts = ([]); locals = []; items = ((Data (Number (pos 64)) (Global name_g) (Of2 binary.Cons (Of unary.Vi (Number (pos 3))) Nil)) ∷ (Data (Number (pos 64)) (Global name_x) (Of2 binary.Cons (Of unary.Vi (Number (pos 3))) Nil)) ∷ []) }); post = (record { opened = (sort.List ∷ []); facts = ([]); locals = []; items = ((Data (Number (pos 64)) (Global name_g) (Var 1 sort.List)) ∷ (Data (Number (pos 64)) (Global name_x) (Var 1 sort.List)) ∷ []) }) }) (record { temps = (name_s ∷ name_t ∷ name_i ∷ name_x1 ∷ name_d0 ∷ name_p1 ∷ name_q1 ∷ []); body = (c.Then (c.Set 0 (c.Const 0)) (c.Then (c.Set 1 (c.Const 2)) (c.Then (c.Malloc 5 3) (c.Then (c.If (c.Pointers (c.Temp 5) (c.Const 0) true) (c.Then (c.Return (Some (c.Const 0))) c.End) c.End) (c.Then (c.Store (root.Temp 5) (c.Offset 0 c.Here) (c.Const 1)) (c.Then (c.Load 1 (root.Temp 5) (c.Offset 0 c.Here)) (c.Then (c.Free (c.Temp 5)) (c.Then (c.Set 3 (c.Binary two.Add kind.Unsigned (c.Const 4294967295) (c.Const 1))) (c.Then (c.Return (Some (c.Temp 0))) c.End))))))))) }) (s.Then 1 (s.Set ([]) ([])) s.NoBlock (s.Then 2 (s.Set ([]) ([])) s.NoBlock (s.Then 3 (s.Malloc name_k1 ([]) ([])) (s.WithBlock (s.Then 4 (s.If ([]) ([]) ([]) ([])) (s.WithBlock (s.Then 5 (s.Share 0 (Number (pos 32)) ([])) s.NoBlock (s.Then 6 (s.Return ((Of2 binary.Cons (Of unary.Vi (Number (pos 3))) Nil) ∷ []) ([]) ([])) s.NoBlock s.End)) (s.WithBlock (s.Then 7 (s.Absurd ([])) s.NoBlock s.End) s.NoBlock)) s.End) (s.WithBlock (s.Then 8 (s.If (2 ∷ []) ([]) ([]) ([])) (s.WithBlock (s.Then 9 (s.Subst name_k1) s.NoBlock (s.Then 10 (s.Absurd ([])) s.NoBlock s.End)) (s.WithBlock (s.Then 11 (s.Store 2 ([]) ([])) s.NoBlock (s.Then 12 (s.Load 2 ([]) ([])) s.NoBlock (s.Then 13 (s.Free 2 3 ([])) s.NoBlock (s.Then 14 (s.Set ([]) ([])) s.NoBlock (s.Then 15 (s.Return ((Of2 binary.Cons (Of unary.Vi (Number (pos 3))) Nil) ∷ []) ([]) ([])) s.NoBlock s.End))))) s.NoBlock)) s.End) s.NoBlock)) s.End))) ≡ (RefusedAt 6 9 5)
unfolding computing
random_845 = refl

random_846 : body_verdict (record { predicates = ([]); specs = ((record { is_void = false; name = name_main; params = ([]); vars = []; pre = (record { opened = []; facts = ([]); locals = []; items = ((Data (Number (pos 64)) (Global name_g) (Of2 binary.Cons (Of unary.Vi (Number (pos 3))) Nil)) ∷ (Data (Number (pos 64)) (Global name_x) (Of2 binary.Cons (Of unary.Vi (Number (pos 3))) Nil)) ∷ []) }); post = (record { opened = (sort.List ∷ []); facts = ([]); locals = []; items = ((Data (Number (pos 64)) (Global name_g) (Var 1 sort.List)) ∷ (Data (Number (pos 64)) (Global name_x) (Var 1 sort.List)) ∷ []) }) }) ∷ []) }) (record { is_void = false; name = name_main; params = ([]); vars = []; pre = (record { opened = []; facts = ([]); locals = []; items = ((Data (Number (pos 64)) (Global name_g) (Of2 binary.Cons (Of unary.Vi (Number (pos 3))) Nil)) ∷ (Data (Number (pos 64)) (Global name_x) (Of2 binary.Cons (Of unary.Vi (Number (pos 3))) Nil)) ∷ []) }); post = (record { opened = (sort.List ∷ []); facts = ([]); locals = []; items = ((Data (Number (pos 64)) (Global name_g) (Var 1 sort.List)) ∷ (Data (Number (pos 64)) (Global name_x) (Var 1 sort.List)) ∷ []) }) }) (record { temps = (name_s ∷ name_t ∷ name_i ∷ name_x1 ∷ name_d0 ∷ name_p1 ∷ name_q1 ∷ []); body = (c.Then (c.Set 0 (c.Const 0)) (c.Then (c.Set 1 (c.Const 2)) (c.Then (c.Malloc 5 3) (c.Then (c.If (c.Pointers (c.Temp 5) (c.Const 0) true) (c.Then (c.Return (Some (c.Const 0))) c.End) c.End) (c.Then (c.Store (root.Temp 5) (c.Offset 0 c.Here) (c.Const 1)) (c.Then (c.Load 1 (root.Temp 5) (c.Offset 0 c.Here)) (c.Then (c.Free (c.Temp 5)) (c.Then (c.Set 3 (c.Binary two.Add kind.Unsigned (c.Const 4294967295) (c.Const 1))) (c.Then (c.Return (Some (c.Temp 0))) c.End))))))))) }) (s.Then 1 (s.Set ([]) ([])) s.NoBlock (s.Then 2 (s.Set ([]) ([])) s.NoBlock (s.Then 3 (s.Malloc name_k1 ([]) ([])) (s.WithBlock (s.Then 4 (s.If ([]) ([]) ([]) ([])) (s.WithBlock (s.Then 5 (s.Return ((Of2 binary.Cons (Of unary.Vi (Number (pos 3))) Nil) ∷ []) ([]) ([])) s.NoBlock s.End) (s.WithBlock (s.Then 6 (s.Absurd ([])) s.NoBlock s.End) s.NoBlock)) s.End) (s.WithBlock (s.Then 7 (s.If (2 ∷ []) ([]) ([]) ([])) (s.WithBlock (s.Then 8 (s.Subst name_k1) s.NoBlock (s.Then 9 (s.Absurd ([])) s.NoBlock s.End)) (s.WithBlock (s.Then 10 (s.Store 2 ([]) ([])) s.NoBlock (s.Then 11 (s.Load 2 ([]) ([])) s.NoBlock (s.Then 12 (s.Free 2 3 ([])) s.NoBlock (s.Then 13 (s.Set ([]) ([])) s.NoBlock s.End)))) s.NoBlock)) s.End) s.NoBlock)) s.End))) ≡ (RefusedAt 14 0 10)
unfolding computing
random_846 = refl

random_847 : body_verdict (record { predicates = ([]); specs = ((record { is_void = false; name = name_main; params = ([]); vars = []; pre = (record { opened = []; facts = ([]); locals = []; items = ((Data (Number (pos 64)) (Global name_g) (Of2 binary.Cons (Of unary.Vi (Number (pos 3))) Nil)) ∷ (Data (Number (pos 64)) (Global name_x) (Of2 binary.Cons (Of unary.Vi (Number (pos 3))) Nil)) ∷ []) }); post = (record { opened = (sort.List ∷ []); facts = ([]); locals = []; items = ((Data (Number (pos 64)) (Global name_g) (Var 1 sort.List)) ∷ (Data (Number (pos 64)) (Global name_x) (Var 1 sort.List)) ∷ []) }) }) ∷ []) }) (record { is_void = false; name = name_main; params = ([]); vars = []; pre = (record { opened = []; facts = ([]); locals = []; items = ((Data (Number (pos 64)) (Global name_g) (Of2 binary.Cons (Of unary.Vi (Number (pos 3))) Nil)) ∷ (Data (Number (pos 64)) (Global name_x) (Of2 binary.Cons (Of unary.Vi (Number (pos 3))) Nil)) ∷ []) }); post = (record { opened = (sort.List ∷ []); facts = ([]); locals = []; items = ((Data (Number (pos 64)) (Global name_g) (Var 1 sort.List)) ∷ (Data (Number (pos 64)) (Global name_x) (Var 1 sort.List)) ∷ []) }) }) (record { temps = (name_s ∷ name_t ∷ name_i ∷ name_x1 ∷ name_d0 ∷ name_p1 ∷ name_q1 ∷ []); body = (c.Then (c.Set 0 (c.Const 0)) (c.Then (c.Set 1 (c.Const 2)) (c.Then (c.Malloc 5 3) (c.Then (c.If (c.Pointers (c.Temp 5) (c.Const 0) true) (c.Then (c.Return (Some (c.Const 0))) c.End) c.End) (c.Then (c.Store (root.Temp 5) (c.Offset 0 c.Here) (c.Const 1)) (c.Then (c.Load 1 (root.Temp 5) (c.Offset 0 c.Here)) (c.Then (c.Free (c.Temp 5)) (c.Then (c.Set 3 (c.Binary two.Add kind.Unsigned (c.Const 4294967295) (c.Const 1))) (c.Then (c.Return (Some (c.Temp 0))) c.End))))))))) }) (s.Then 1 (s.Set ([]) ([])) s.NoBlock (s.Then 2 (s.Malloc name_k1 ([]) ([])) (s.WithBlock (s.Then 3 (s.If ([]) ([]) ([]) ([])) (s.WithBlock (s.Then 4 (s.Return ((Of2 binary.Cons (Of unary.Vi (Number (pos 3))) Nil) ∷ []) ([]) ([])) s.NoBlock s.End) (s.WithBlock (s.Then 5 (s.Absurd ([])) s.NoBlock s.End) s.NoBlock)) s.End) (s.WithBlock (s.Then 6 (s.If (2 ∷ []) ([]) ([]) ([])) (s.WithBlock (s.Then 7 (s.Subst name_k1) s.NoBlock (s.Then 8 (s.Absurd ([])) s.NoBlock s.End)) (s.WithBlock (s.Then 9 (s.Store 2 ([]) ([])) s.NoBlock (s.Then 10 (s.Load 2 ([]) ([])) s.NoBlock (s.Then 11 (s.Free 2 3 ([])) s.NoBlock (s.Then 12 (s.Set ([]) ([])) s.NoBlock (s.Then 13 (s.Return ((Of2 binary.Cons (Of unary.Vi (Number (pos 3))) Nil) ∷ []) ([]) ([])) s.NoBlock s.End))))) s.NoBlock)) s.End) s.NoBlock)) s.End)) ≡ (RefusedAt 2 14 1)
unfolding computing
random_847 = refl

random_848 : body_verdict (record { predicates = ([]); specs = ((record { is_void = false; name = name_main; params = ([]); vars = []; pre = (record { opened = []; facts = ([]); locals = []; items = ((Data (Number (pos 64)) (Global name_g) (Of2 binary.Cons (Of unary.Vi (Number (pos 3))) Nil)) ∷ (Data (Number (pos 64)) (Global name_x) (Of2 binary.Cons (Of unary.Vi (Number (pos 3))) Nil)) ∷ []) }); post = (record { opened = (sort.List ∷ []); facts = ([]); locals = []; items = ((Data (Number (pos 64)) (Global name_g) (Var 1 sort.List)) ∷ (Data (Number (pos 64)) (Global name_x) (Var 1 sort.List)) ∷ []) }) }) ∷ []) }) (record { is_void = false; name = name_main; params = ([]); vars = []; pre = (record { opened = []; facts = ([]); locals = []; items = ((Data (Number (pos 64)) (Global name_g) (Of2 binary.Cons (Of unary.Vi (Number (pos 3))) Nil)) ∷ (Data (Number (pos 64)) (Global name_x) (Of2 binary.Cons (Of unary.Vi (Number (pos 3))) Nil)) ∷ []) }); post = (record { opened = (sort.List ∷ []); facts = ([]); locals = []; items = ((Data (Number (pos 64)) (Global name_g) (Var 1 sort.List)) ∷ (Data (Number (pos 64)) (Global name_x) (Var 1 sort.List)) ∷ []) }) }) (record { temps = (name_s ∷ name_t ∷ name_i ∷ name_x1 ∷ name_d0 ∷ name_p1 ∷ name_q1 ∷ []); body = (c.Then (c.Set 0 (c.Const 0)) (c.Then (c.Set 1 (c.Const 2)) (c.Then (c.Malloc 5 3) (c.Then (c.If (c.Pointers (c.Temp 5) (c.Const 0) true) (c.Then (c.Return (Some (c.Const 0))) c.End) c.End) (c.Then (c.Store (root.Temp 5) (c.Offset 0 c.Here) (c.Const 1)) (c.Then (c.Load 1 (root.Temp 5) (c.Offset 0 c.Here)) (c.Then (c.Free (c.Temp 5)) (c.Then (c.Set 3 (c.Binary two.Add kind.Unsigned (c.Const 4294967295) (c.Const 1))) (c.Then (c.Return (Some (c.Temp 0))) c.End))))))))) }) (s.Then 1 (s.Set ([]) ([])) s.NoBlock (s.Then 2 (s.Set ([]) ([])) s.NoBlock (s.Then 3 (s.Malloc name_k1 ([]) ([])) (s.WithBlock (s.Then 4 (s.If ([]) ([]) ([]) ([])) (s.WithBlock (s.Then 5 (s.Return ((Of2 binary.Cons (Of unary.Vi (Number (pos 3))) Nil) ∷ []) ([]) ([])) s.NoBlock s.End) (s.WithBlock (s.Then 6 (s.Absurd ([])) s.NoBlock s.End) s.NoBlock)) s.End) (s.WithBlock (s.Then 7 (s.If (2 ∷ []) ([]) ([]) ([])) (s.WithBlock (s.Then 8 (s.Subst name_k1) s.NoBlock (s.Then 9 (s.Absurd ([])) s.NoBlock s.End)) (s.WithBlock (s.Then 10 (s.Store 2 ([]) ([])) s.NoBlock (s.Then 11 (s.Load 2 ([]) ([])) s.NoBlock (s.Then 12 (s.Free 2 3 ([])) s.NoBlock (s.Then 13 (s.Set ([]) ([])) s.NoBlock (s.Then 14 (s.Set ([]) ([])) s.NoBlock (s.Then 15 (s.Return ((Of2 binary.Cons (Of unary.Vi (Number (pos 3))) Nil) ∷ []) ([]) ([])) s.NoBlock s.End)))))) s.NoBlock)) s.End) s.NoBlock)) s.End))) ≡ (RefusedAt 14 2 1)
unfolding computing
random_848 = refl

random_849 : body_verdict (record { predicates = ([]); specs = ((record { is_void = false; name = name_main; params = ([]); vars = []; pre = (record { opened = []; facts = ([]); locals = []; items = ((Data (Number (pos 64)) (Global name_g) (Of2 binary.Cons (Of unary.Vi (Number (pos 3))) Nil)) ∷ (Data (Number (pos 64)) (Global name_x) (Of2 binary.Cons (Of unary.Vi (Number (pos 3))) Nil)) ∷ []) }); post = (record { opened = (sort.List ∷ []); facts = ([]); locals = []; items = ((Data (Number (pos 64)) (Global name_g) (Var 1 sort.List)) ∷ (Data (Number (pos 64)) (Global name_x) (Var 1 sort.List)) ∷ []) }) }) ∷ []) }) (record { is_void = false; name = name_main; params = ([]); vars = []; pre = (record { opened = []; facts = ([]); locals = []; items = ((Data (Number (pos 64)) (Global name_g) (Of2 binary.Cons (Of unary.Vi (Number (pos 3))) Nil)) ∷ (Data (Number (pos 64)) (Global name_x) (Of2 binary.Cons (Of unary.Vi (Number (pos 3))) Nil)) ∷ []) }); post = (record { opened = (sort.List ∷ []); facts = ([]); locals = []; items = ((Data (Number (pos 64)) (Global name_g) (Var 1 sort.List)) ∷ (Data (Number (pos 64)) (Global name_x) (Var 1 sort.List)) ∷ []) }) }) (record { temps = (name_s ∷ name_t ∷ name_i ∷ name_x1 ∷ name_d0 ∷ name_p1 ∷ name_q1 ∷ []); body = (c.Then (c.Set 0 (c.Const 0)) (c.Then (c.Set 1 (c.Const 2)) (c.Then (c.Malloc 5 3) (c.Then (c.If (c.Pointers (c.Temp 5) (c.Const 0) true) (c.Then (c.Return (Some (c.Const 0))) c.End) c.End) (c.Then (c.Store (root.Temp 5) (c.Offset 0 c.Here) (c.Const 1)) (c.Then (c.Load 1 (root.Temp 5) (c.Offset 0 c.Here)) (c.Then (c.Free (c.Temp 5)) (c.Then (c.Set 3 (c.Binary two.Add kind.Unsigned (c.Const 4294967295) (c.Const 1))) (c.Then (c.Return (Some (c.Temp 0))) c.End))))))))) }) (s.Then 1 (s.Set ([]) ([])) s.NoBlock (s.Then 2 (s.Set ([]) ([])) s.NoBlock (s.Then 3 (s.Malloc name_k1 ([]) ([])) (s.WithBlock s.End (s.WithBlock (s.Then 4 (s.If (2 ∷ []) ([]) ([]) ([])) (s.WithBlock (s.Then 5 (s.Subst name_k1) s.NoBlock (s.Then 6 (s.Absurd ([])) s.NoBlock s.End)) (s.WithBlock (s.Then 7 (s.Store 2 ([]) ([])) s.NoBlock (s.Then 8 (s.Load 2 ([]) ([])) s.NoBlock (s.Then 9 (s.Free 2 3 ([])) s.NoBlock (s.Then 10 (s.Set ([]) ([])) s.NoBlock (s.Then 11 (s.Return ((Of2 binary.Cons (Of unary.Vi (Number (pos 3))) Nil) ∷ []) ([]) ([])) s.NoBlock s.End))))) s.NoBlock)) s.End) s.NoBlock)) s.End))) ≡ (RefusedAt 4 0 10)
unfolding computing
random_849 = refl

random_850 : body_verdict (record { predicates = ([]); specs = ((record { is_void = false; name = name_main; params = ([]); vars = []; pre = (record { opened = []; facts = ([]); locals = []; items = ((Data (Number (pos 64)) (Global name_g) (Of2 binary.Cons (Of unary.Vi (Number (pos 3))) Nil)) ∷ (Data (Number (pos 64)) (Global name_x) (Of2 binary.Cons (Of unary.Vi (Number (pos 3))) Nil)) ∷ (Data (Number (pos 64)) (Global name_arr) (Of2 binary.Cons (Of unary.Vi (Number (pos 1))) (Of2 binary.Cons (Of unary.Vi (Number (pos 2))) (Of2 binary.Cons (Of unary.Vi (Number (pos 0))) (Of2 binary.Cons (Of unary.Vi (Number (pos 0))) Nil))))) ∷ []) }); post = (record { opened = []; facts = ((Rel relation.Eq (Var 0 sort.Val) (Of unary.Vi (Number (pos 1)))) ∷ []); locals = []; items = ((Data (Number (pos 64)) (Global name_g) (Of2 binary.Cons (Of unary.Vi (Number (pos 3))) Nil)) ∷ (Data (Number (pos 64)) (Global name_x) (Of2 binary.Cons (Of unary.Vi (Number (pos 3))) Nil)) ∷ (Data (Number (pos 64)) (Global name_arr) (Of2 binary.Cons (Of unary.Vi (Number (pos 1))) (Of2 binary.Cons (Of unary.Vi (Number (pos 2))) (Of2 binary.Cons (Of unary.Vi (Number (pos 0))) (Of2 binary.Cons (Of unary.Vi (Number (pos 0))) Nil))))) ∷ []) }) }) ∷ []) }) (record { is_void = false; name = name_main; params = ([]); vars = []; pre = (record { opened = []; facts = ([]); locals = []; items = ((Data (Number (pos 64)) (Global name_g) (Of2 binary.Cons (Of unary.Vi (Number (pos 3))) Nil)) ∷ (Data (Number (pos 64)) (Global name_x) (Of2 binary.Cons (Of unary.Vi (Number (pos 3))) Nil)) ∷ (Data (Number (pos 64)) (Global name_arr) (Of2 binary.Cons (Of unary.Vi (Number (pos 1))) (Of2 binary.Cons (Of unary.Vi (Number (pos 2))) (Of2 binary.Cons (Of unary.Vi (Number (pos 0))) (Of2 binary.Cons (Of unary.Vi (Number (pos 0))) Nil))))) ∷ []) }); post = (record { opened = []; facts = ((Rel relation.Eq (Var 0 sort.Val) (Of unary.Vi (Number (pos 1)))) ∷ []); locals = []; items = ((Data (Number (pos 64)) (Global name_g) (Of2 binary.Cons (Of unary.Vi (Number (pos 3))) Nil)) ∷ (Data (Number (pos 64)) (Global name_x) (Of2 binary.Cons (Of unary.Vi (Number (pos 3))) Nil)) ∷ (Data (Number (pos 64)) (Global name_arr) (Of2 binary.Cons (Of unary.Vi (Number (pos 1))) (Of2 binary.Cons (Of unary.Vi (Number (pos 2))) (Of2 binary.Cons (Of unary.Vi (Number (pos 0))) (Of2 binary.Cons (Of unary.Vi (Number (pos 0))) Nil))))) ∷ []) }) }) (record { temps = (name_s ∷ name_t ∷ name_i ∷ name_x1 ∷ name_d0 ∷ name_p1 ∷ name_q1 ∷ []); body = (c.Then (c.Set 0 (c.Const 3)) (c.Then (c.Set 1 (c.Const 1)) (c.Then (c.Store (root.Global name_arr 4) (c.Index kind.Signed (c.Const 0) c.Here) (c.Temp 1)) (c.Then (c.Load 0 (root.Global name_g 1) c.Here) (c.Then (c.Return (Some (c.Temp 1))) c.End))))) }) (s.Then 1 (s.Set ([]) ([])) s.NoBlock (s.Then 2 (s.Set ([]) ([])) s.NoBlock (s.Then 3 (s.Store 2 ([]) ([])) s.NoBlock (s.Then 4 (s.Load 0 ([]) ([])) s.NoBlock (s.Then 5 (s.Return ([]) ([]) ([])) s.NoBlock s.End))))) ≡ Accepted
unfolding computing
random_850 = refl

random_851 : body_verdict (record { predicates = ([]); specs = ((record { is_void = false; name = name_main; params = ([]); vars = []; pre = (record { opened = []; facts = ([]); locals = []; items = ((Data (Number (pos 64)) (Global name_g) (Of2 binary.Cons (Of unary.Vi (Number (pos 3))) Nil)) ∷ (Data (Number (pos 64)) (Global name_x) (Of2 binary.Cons (Of unary.Vi (Number (pos 3))) Nil)) ∷ (Data (Number (pos 64)) (Global name_arr) (Of2 binary.Cons (Of unary.Vi (Number (pos 1))) (Of2 binary.Cons (Of unary.Vi (Number (pos 2))) (Of2 binary.Cons (Of unary.Vi (Number (pos 0))) (Of2 binary.Cons (Of unary.Vi (Number (pos 0))) Nil))))) ∷ []) }); post = (record { opened = []; facts = ((Rel relation.Eq (Var 0 sort.Val) (Of unary.Vi (Number (pos 1)))) ∷ []); locals = []; items = ((Data (Number (pos 64)) (Global name_g) (Of2 binary.Cons (Of unary.Vi (Number (pos 3))) Nil)) ∷ (Data (Number (pos 64)) (Global name_g) (Of2 binary.Cons (Of unary.Vi (Number (pos 3))) Nil)) ∷ (Data (Number (pos 64)) (Global name_arr) (Of2 binary.Cons (Of unary.Vi (Number (pos 1))) (Of2 binary.Cons (Of unary.Vi (Number (pos 2))) (Of2 binary.Cons (Of unary.Vi (Number (pos 0))) (Of2 binary.Cons (Of unary.Vi (Number (pos 0))) Nil))))) ∷ []) }) }) ∷ []) }) (record { is_void = false; name = name_main; params = ([]); vars = []; pre = (record { opened = []; facts = ([]); locals = []; items = ((Data (Number (pos 64)) (Global name_g) (Of2 binary.Cons (Of unary.Vi (Number (pos 3))) Nil)) ∷ (Data (Number (pos 64)) (Global name_x) (Of2 binary.Cons (Of unary.Vi (Number (pos 3))) Nil)) ∷ (Data (Number (pos 64)) (Global name_arr) (Of2 binary.Cons (Of unary.Vi (Number (pos 1))) (Of2 binary.Cons (Of unary.Vi (Number (pos 2))) (Of2 binary.Cons (Of unary.Vi (Number (pos 0))) (Of2 binary.Cons (Of unary.Vi (Number (pos 0))) Nil))))) ∷ []) }); post = (record { opened = []; facts = ((Rel relation.Eq (Var 0 sort.Val) (Of unary.Vi (Number (pos 1)))) ∷ []); locals = []; items = ((Data (Number (pos 64)) (Global name_g) (Of2 binary.Cons (Of unary.Vi (Number (pos 3))) Nil)) ∷ (Data (Number (pos 64)) (Global name_g) (Of2 binary.Cons (Of unary.Vi (Number (pos 3))) Nil)) ∷ (Data (Number (pos 64)) (Global name_arr) (Of2 binary.Cons (Of unary.Vi (Number (pos 1))) (Of2 binary.Cons (Of unary.Vi (Number (pos 2))) (Of2 binary.Cons (Of unary.Vi (Number (pos 0))) (Of2 binary.Cons (Of unary.Vi (Number (pos 0))) Nil))))) ∷ []) }) }) (record { temps = (name_s ∷ name_t ∷ name_i ∷ name_x1 ∷ name_d0 ∷ name_p1 ∷ name_q1 ∷ []); body = (c.Then (c.Set 0 (c.Const 3)) (c.Then (c.Set 1 (c.Const 1)) (c.Then (c.Store (root.Global name_arr 4) (c.Index kind.Signed (c.Const 0) c.Here) (c.Temp 1)) (c.Then (c.Load 0 (root.Global name_g 1) c.Here) (c.Then (c.Return (Some (c.Temp 1))) c.End))))) }) (s.Then 1 (s.Set ([]) ([])) s.NoBlock (s.Then 2 (s.Set ([]) ([])) s.NoBlock (s.Then 3 (s.Store 2 ([]) ([])) s.NoBlock (s.Then 4 (s.Load 0 ([]) ([])) s.NoBlock (s.Then 5 (s.Return ([]) ([]) ([])) s.NoBlock s.End))))) ≡ (RefusedAt 5 9 5)
unfolding computing
random_851 = refl

random_852 : body_verdict (record { predicates = ([]); specs = ((record { is_void = false; name = name_main; params = ([]); vars = []; pre = (record { opened = []; facts = ([]); locals = []; items = ((Data (Number (pos 64)) (Global name_g) (Of2 binary.Cons (Of unary.Vi (Number (pos 3))) Nil)) ∷ (Data (Number (pos 64)) (Global name_x) (Of2 binary.Cons (Of unary.Vi (Number (pos 3))) Nil)) ∷ (Data (Number (pos 64)) (Global name_arr) (Of2 binary.Cons (Of unary.Vi (Number (pos 1))) (Of2 binary.Cons (Of unary.Vi (Number (pos 2))) (Of2 binary.Cons (Of unary.Vi (Number (pos 0))) (Of2 binary.Cons (Of unary.Vi (Number (pos 0))) Nil))))) ∷ []) }); post = (record { opened = []; facts = ((Rel relation.Eq (Var 0 sort.Val) (Of unary.Vi (Number (pos 1)))) ∷ []); locals = []; items = ((Data (Number (pos 64)) (Global name_g) (Of2 binary.Cons (Of unary.Vi (Number (pos 3))) Nil)) ∷ (Data (Number (pos 64)) (Global name_x) (Of2 binary.Cons (Of unary.Vi (Number (pos 3))) Nil)) ∷ (Data (Number (pos 64)) (Global name_arr) (Of2 binary.Cons (Of unary.Vi (Number (pos 1))) (Of2 binary.Cons (Of unary.Vi (Number (pos 2))) (Of2 binary.Cons (Of unary.Vi (Number (pos 0))) (Of2 binary.Cons (Of unary.Vi (Number (pos 0))) Nil))))) ∷ []) }) }) ∷ []) }) (record { is_void = false; name = name_main; params = ([]); vars = []; pre = (record { opened = []; facts = ([]); locals = []; items = ((Data (Number (pos 64)) (Global name_g) (Of2 binary.Cons (Of unary.Vi (Number (pos 3))) Nil)) ∷ (Data (Number (pos 64)) (Global name_x) (Of2 binary.Cons (Of unary.Vi (Number (pos 3))) Nil)) ∷ (Data (Number (pos 64)) (Global name_arr) (Of2 binary.Cons (Of unary.Vi (Number (pos 1))) (Of2 binary.Cons (Of unary.Vi (Number (pos 2))) (Of2 binary.Cons (Of unary.Vi (Number (pos 0))) (Of2 binary.Cons (Of unary.Vi (Number (pos 0))) Nil))))) ∷ []) }); post = (record { opened = []; facts = ((Rel relation.Eq (Var 0 sort.Val) (Of unary.Vi (Number (pos 1)))) ∷ []); locals = []; items = ((Data (Number (pos 64)) (Global name_g) (Of2 binary.Cons (Of unary.Vi (Number (pos 3))) Nil)) ∷ (Data (Number (pos 64)) (Global name_x) (Of2 binary.Cons (Of unary.Vi (Number (pos 3))) Nil)) ∷ (Data (Number (pos 64)) (Global name_arr) (Of2 binary.Cons (Of unary.Vi (Number (pos 1))) (Of2 binary.Cons (Of unary.Vi (Number (pos 2))) (Of2 binary.Cons (Of unary.Vi (Number (pos 0))) (Of2 binary.Cons (Of unary.Vi (Number (pos 0))) Nil))))) ∷ []) }) }) (record { temps = (name_s ∷ name_t ∷ name_i ∷ name_x1 ∷ name_d0 ∷ name_p1 ∷ name_q1 ∷ []); body = (c.Then (c.Set 0 (c.Const 3)) (c.Then (c.Set 1 (c.Const 1)) (c.Then (c.Store (root.Global name_arr 4) (c.Index kind.Signed (c.Const 0) c.Here) (c.Temp 1)) (c.Then (c.Load 0 (root.Global name_g 1) c.Here) (c.Then (c.Return (Some (c.Temp 1))) c.End))))) }) (s.Then 1 (s.Set ([]) ([])) s.NoBlock (s.Then 2 (s.Set ([]) ([])) s.NoBlock (s.Then 3 (s.Store 2 ([]) ([])) s.NoBlock (s.Then 4 (s.Law name_zz ([]) ([])) s.NoBlock (s.Then 5 (s.Load 0 ([]) ([])) s.NoBlock (s.Then 6 (s.Return ([]) ([]) ([])) s.NoBlock s.End)))))) ≡ (RefusedAt 4 26 1)
unfolding computing
random_852 = refl

random_853 : body_verdict (record { predicates = ([]); specs = ((record { is_void = false; name = name_main; params = ([]); vars = []; pre = (record { opened = []; facts = ([]); locals = []; items = ((Data (Number (pos 64)) (Global name_g) (Of2 binary.Cons (Of unary.Vi (Number (pos 3))) Nil)) ∷ (Data (Number (pos 64)) (Global name_x) (Of2 binary.Cons (Of unary.Vi (Number (pos 3))) Nil)) ∷ (Data (Number (pos 64)) (Global name_arr) (Of2 binary.Cons (Of unary.Vi (Number (pos 1))) (Of2 binary.Cons (Of unary.Vi (Number (pos 2))) (Of2 binary.Cons (Of unary.Vi (Number (pos 0))) (Of2 binary.Cons (Of unary.Vi (Number (pos 0))) Nil))))) ∷ []) }); post = (record { opened = []; facts = ((Rel relation.Eq (Var 0 sort.Val) (Of unary.Vi (Number (pos 1)))) ∷ []); locals = []; items = ((Data (Number (pos 64)) (Global name_g) (Of2 binary.Cons (Of unary.Vi (Number (pos 3))) Nil)) ∷ (Data (Number (pos 64)) (Global name_x) (Of2 binary.Cons (Of unary.Vi (Number (pos 3))) Nil)) ∷ (Data (Number (pos 64)) (Global name_arr) (Of2 binary.Cons (Of unary.Vi (Number (pos 1))) (Of2 binary.Cons (Of unary.Vi (Number (pos 2))) (Of2 binary.Cons (Of unary.Vi (Number (pos 0))) (Of2 binary.Cons (Of unary.Vi (Number (pos 0))) Nil))))) ∷ []) }) }) ∷ []) }) (record { is_void = false; name = name_main; params = ([]); vars = []; pre = (record { opened = []; facts = ([]); locals = []; items = ((Data (Number (pos 64)) (Global name_g) (Of2 binary.Cons (Of unary.Vi (Number (pos 3))) Nil)) ∷ (Data (Number (pos 64)) (Global name_x) (Of2 binary.Cons (Of unary.Vi (Number (pos 3))) Nil)) ∷ (Data (Number (pos 64)) (Global name_arr) (Of2 binary.Cons (Of unary.Vi (Number (pos 1))) (Of2 binary.Cons (Of unary.Vi (Number (pos 2))) (Of2 binary.Cons (Of unary.Vi (Number (pos 0))) (Of2 binary.Cons (Of unary.Vi (Number (pos 0))) Nil))))) ∷ []) }); post = (record { opened = []; facts = ((Rel relation.Eq (Var 0 sort.Val) (Of unary.Vi (Number (pos 1)))) ∷ []); locals = []; items = ((Data (Number (pos 64)) (Global name_g) (Of2 binary.Cons (Of unary.Vi (Number (pos 3))) Nil)) ∷ (Data (Number (pos 64)) (Global name_x) (Of2 binary.Cons (Of unary.Vi (Number (pos 3))) Nil)) ∷ (Data (Number (pos 64)) (Global name_arr) (Of2 binary.Cons (Of unary.Vi (Number (pos 1))) (Of2 binary.Cons (Of unary.Vi (Number (pos 2))) (Of2 binary.Cons (Of unary.Vi (Number (pos 0))) (Of2 binary.Cons (Of unary.Vi (Number (pos 0))) Nil))))) ∷ []) }) }) (record { temps = (name_s ∷ name_t ∷ name_i ∷ name_x1 ∷ name_d0 ∷ name_p1 ∷ name_q1 ∷ []); body = (c.Then (c.Set 0 (c.Const 3)) (c.Then (c.Set 1 (c.Const 1)) (c.Then (c.Store (root.Global name_arr 4) (c.Index kind.Signed (c.Const 0) c.Here) (c.Temp 1)) (c.Then (c.Load 0 (root.Global name_g 1) c.Here) (c.Then (c.Return (Some (c.Temp 1))) c.End))))) }) (s.Then 1 (s.Set ([]) ([])) s.NoBlock (s.Then 2 (s.Set ([]) ([])) s.NoBlock (s.Then 3 (s.Set ([]) ([])) s.NoBlock (s.Then 4 (s.Store 2 ([]) ([])) s.NoBlock (s.Then 5 (s.Load 0 ([]) ([])) s.NoBlock (s.Then 6 (s.Return ([]) ([]) ([])) s.NoBlock s.End)))))) ≡ (RefusedAt 3 2 1)
unfolding computing
random_853 = refl

random_854 : body_verdict (record { predicates = ([]); specs = ((record { is_void = false; name = name_main; params = ([]); vars = []; pre = (record { opened = []; facts = ([]); locals = []; items = ((Data (Number (pos 64)) (Global name_g) (Of2 binary.Cons (Of unary.Vi (Number (pos 3))) Nil)) ∷ (Data (Number (pos 64)) (Global name_x) (Of2 binary.Cons (Of unary.Vi (Number (pos 3))) Nil)) ∷ (Data (Number (pos 64)) (Global name_arr) (Of2 binary.Cons (Of unary.Vi (Number (pos 1))) (Of2 binary.Cons (Of unary.Vi (Number (pos 2))) (Of2 binary.Cons (Of unary.Vi (Number (pos 0))) (Of2 binary.Cons (Of unary.Vi (Number (pos 0))) Nil))))) ∷ []) }); post = (record { opened = []; facts = ((Rel relation.Eq (Var 0 sort.Val) (Of unary.Vi (Number (pos 1)))) ∷ []); locals = []; items = ((Data (Number (pos 64)) (Global name_g) (Of2 binary.Cons (Of unary.Vi (Number (pos 3))) Nil)) ∷ (Data (Number (pos 64)) (Global name_x) (Of2 binary.Cons (Of unary.Vi (Number (pos 3))) Nil)) ∷ (Data (Number (pos 64)) (Global name_arr) (Of2 binary.Cons (Of unary.Vi (Number (pos 1))) (Of2 binary.Cons (Of unary.Vi (Number (pos 3))) (Of2 binary.Cons (Of unary.Vi (Number (pos 0))) (Of2 binary.Cons (Of unary.Vi (Number (pos 0))) Nil))))) ∷ []) }) }) ∷ []) }) (record { is_void = false; name = name_main; params = ([]); vars = []; pre = (record { opened = []; facts = ([]); locals = []; items = ((Data (Number (pos 64)) (Global name_g) (Of2 binary.Cons (Of unary.Vi (Number (pos 3))) Nil)) ∷ (Data (Number (pos 64)) (Global name_x) (Of2 binary.Cons (Of unary.Vi (Number (pos 3))) Nil)) ∷ (Data (Number (pos 64)) (Global name_arr) (Of2 binary.Cons (Of unary.Vi (Number (pos 1))) (Of2 binary.Cons (Of unary.Vi (Number (pos 2))) (Of2 binary.Cons (Of unary.Vi (Number (pos 0))) (Of2 binary.Cons (Of unary.Vi (Number (pos 0))) Nil))))) ∷ []) }); post = (record { opened = []; facts = ((Rel relation.Eq (Var 0 sort.Val) (Of unary.Vi (Number (pos 1)))) ∷ []); locals = []; items = ((Data (Number (pos 64)) (Global name_g) (Of2 binary.Cons (Of unary.Vi (Number (pos 3))) Nil)) ∷ (Data (Number (pos 64)) (Global name_x) (Of2 binary.Cons (Of unary.Vi (Number (pos 3))) Nil)) ∷ (Data (Number (pos 64)) (Global name_arr) (Of2 binary.Cons (Of unary.Vi (Number (pos 1))) (Of2 binary.Cons (Of unary.Vi (Number (pos 3))) (Of2 binary.Cons (Of unary.Vi (Number (pos 0))) (Of2 binary.Cons (Of unary.Vi (Number (pos 0))) Nil))))) ∷ []) }) }) (record { temps = (name_s ∷ name_t ∷ name_i ∷ name_x1 ∷ name_d0 ∷ name_p1 ∷ name_q1 ∷ []); body = (c.Then (c.Set 0 (c.Const 3)) (c.Then (c.Set 1 (c.Const 1)) (c.Then (c.Store (root.Global name_arr 4) (c.Index kind.Signed (c.Const 0) c.Here) (c.Temp 1)) (c.Then (c.Load 0 (root.Global name_g 1) c.Here) (c.Then (c.Return (Some (c.Temp 1))) c.End))))) }) (s.Then 1 (s.Set ([]) ([])) s.NoBlock (s.Then 2 (s.Set ([]) ([])) s.NoBlock (s.Then 3 (s.Store 2 ([]) ([])) s.NoBlock (s.Then 4 (s.Load 0 ([]) ([])) s.NoBlock (s.Then 5 (s.Return ([]) ([]) ([])) s.NoBlock s.End))))) ≡ (RefusedAt 5 9 5)
unfolding computing
random_854 = refl

random_855 : body_verdict (record { predicates = ([]); specs = ((record { is_void = false; name = name_main; params = ([]); vars = []; pre = (record { opened = []; facts = ([]); locals = []; items = ((Data (Number (pos 64)) (Global name_g) (Of2 binary.Cons (Of unary.Vi (Number (pos 3))) Nil)) ∷ (Data (Number (pos 64)) (Global name_x) (Of2 binary.Cons (Of unary.Vi (Number (pos 3))) Nil)) ∷ (Data (Number (pos 64)) (Global name_arr) (Of2 binary.Cons (Of unary.Vi (Number (pos 1))) (Of2 binary.Cons (Of unary.Vi (Number (pos 2))) (Of2 binary.Cons (Of unary.Vi (Number (pos 0))) (Of2 binary.Cons (Of unary.Vi (Number (pos 0))) Nil))))) ∷ []) }); post = (record { opened = []; facts = ((Rel relation.Eq (Var 0 sort.Val) (Of unary.Vi (Number (pos 1)))) ∷ []); locals = []; items = ((Data (Number (pos 64)) (Global name_g) (Of2 binary.Cons (Of unary.Vi (Number (pos 3))) Nil)) ∷ (Data (Number (pos 64)) (Global name_x) (Of2 binary.Cons (Of unary.Vi (Number (pos 3))) Nil)) ∷ (Data (Number (pos 64)) (Global name_arr) (Of2 binary.Cons (Of unary.Vi (Number (pos 1))) (Of2 binary.Cons (Of unary.Vi (Number (pos 2))) (Of2 binary.Cons (Of unary.Vi (Number (pos 0))) (Of2 binary.Cons (Of unary.Vi (Number (pos 0))) Nil))))) ∷ []) }) }) ∷ []) }) (record { is_void = false; name = name_main; params = ([]); vars = []; pre = (record { opened = []; facts = ([]); locals = []; items = ((Data (Number (pos 64)) (Global name_g) (Of2 binary.Cons (Of unary.Vi (Number (pos 3))) Nil)) ∷ (Data (Number (pos 64)) (Global name_x) (Of2 binary.Cons (Of unary.Vi (Number (pos 3))) Nil)) ∷ (Data (Number (pos 64)) (Global name_arr) (Of2 binary.Cons (Of unary.Vi (Number (pos 1))) (Of2 binary.Cons (Of unary.Vi (Number (pos 2))) (Of2 binary.Cons (Of unary.Vi (Number (pos 0))) (Of2 binary.Cons (Of unary.Vi (Number (pos 0))) Nil))))) ∷ []) }); post = (record { opened = []; facts = ((Rel relation.Eq (Var 0 sort.Val) (Of unary.Vi (Number (pos 1)))) ∷ []); locals = []; items = ((Data (Number (pos 64)) (Global name_g) (Of2 binary.Cons (Of unary.Vi (Number (pos 3))) Nil)) ∷ (Data (Number (pos 64)) (Global name_x) (Of2 binary.Cons (Of unary.Vi (Number (pos 3))) Nil)) ∷ (Data (Number (pos 64)) (Global name_arr) (Of2 binary.Cons (Of unary.Vi (Number (pos 1))) (Of2 binary.Cons (Of unary.Vi (Number (pos 2))) (Of2 binary.Cons (Of unary.Vi (Number (pos 0))) (Of2 binary.Cons (Of unary.Vi (Number (pos 0))) Nil))))) ∷ []) }) }) (record { temps = (name_s ∷ name_t ∷ name_i ∷ name_x1 ∷ name_d0 ∷ name_p1 ∷ name_q1 ∷ []); body = (c.Then (c.Set 0 (c.Const 3)) (c.Then (c.Set 1 (c.Const 2)) (c.Then (c.Store (root.Global name_arr 4) (c.Index kind.Signed (c.Const 0) c.Here) (c.Temp 1)) (c.Then (c.Load 0 (root.Global name_g 1) c.Here) (c.Then (c.Return (Some (c.Temp 1))) c.End))))) }) (s.Then 1 (s.Set ([]) ([])) s.NoBlock (s.Then 2 (s.Set ([]) ([])) s.NoBlock (s.Then 3 (s.Store 2 ([]) ([])) s.NoBlock (s.Then 4 (s.Load 0 ([]) ([])) s.NoBlock (s.Then 5 (s.Return ([]) ([]) ([])) s.NoBlock s.End))))) ≡ (RefusedAt 5 9 3)
unfolding computing
random_855 = refl

random_856 : body_verdict (record { predicates = ([]); specs = ((record { is_void = false; name = name_main; params = ([]); vars = []; pre = (record { opened = []; facts = ([]); locals = []; items = ((Data (Number (pos 64)) (Global name_g) (Of2 binary.Cons (Of unary.Vi (Number (pos 3))) Nil)) ∷ (Data (Number (pos 64)) (Global name_x) (Of2 binary.Cons (Of unary.Vi (Number (pos 3))) Nil)) ∷ (Data (Number (pos 64)) (Global name_arr) (Of2 binary.Cons (Of unary.Vi (Number (pos 1))) (Of2 binary.Cons (Of unary.Vi (Number (pos 2))) (Of2 binary.Cons (Of unary.Vi (Number (pos 0))) (Of2 binary.Cons (Of unary.Vi (Number (pos 0))) Nil))))) ∷ []) }); post = (record { opened = []; facts = ((Rel relation.Eq (Var 0 sort.Val) (Of unary.Vi (Number (pos 1)))) ∷ []); locals = []; items = ((Data (Number (pos 64)) (Global name_g) (Of2 binary.Cons (Of unary.Vi (Number (pos 3))) Nil)) ∷ (Data (Number (pos 64)) (Global name_x) (Of2 binary.Cons (Of unary.Vi (Number (pos 3))) Nil)) ∷ (Data (Number (pos 64)) (Global name_arr) (Of2 binary.Cons (Of unary.Vi (Number (pos 0))) (Of2 binary.Cons (Of unary.Vi (Number (pos 2))) (Of2 binary.Cons (Of unary.Vi (Number (pos 0))) (Of2 binary.Cons (Of unary.Vi (Number (pos 0))) Nil))))) ∷ []) }) }) ∷ []) }) (record { is_void = false; name = name_main; params = ([]); vars = []; pre = (record { opened = []; facts = ([]); locals = []; items = ((Data (Number (pos 64)) (Global name_g) (Of2 binary.Cons (Of unary.Vi (Number (pos 3))) Nil)) ∷ (Data (Number (pos 64)) (Global name_x) (Of2 binary.Cons (Of unary.Vi (Number (pos 3))) Nil)) ∷ (Data (Number (pos 64)) (Global name_arr) (Of2 binary.Cons (Of unary.Vi (Number (pos 1))) (Of2 binary.Cons (Of unary.Vi (Number (pos 2))) (Of2 binary.Cons (Of unary.Vi (Number (pos 0))) (Of2 binary.Cons (Of unary.Vi (Number (pos 0))) Nil))))) ∷ []) }); post = (record { opened = []; facts = ((Rel relation.Eq (Var 0 sort.Val) (Of unary.Vi (Number (pos 1)))) ∷ []); locals = []; items = ((Data (Number (pos 64)) (Global name_g) (Of2 binary.Cons (Of unary.Vi (Number (pos 3))) Nil)) ∷ (Data (Number (pos 64)) (Global name_x) (Of2 binary.Cons (Of unary.Vi (Number (pos 3))) Nil)) ∷ (Data (Number (pos 64)) (Global name_arr) (Of2 binary.Cons (Of unary.Vi (Number (pos 0))) (Of2 binary.Cons (Of unary.Vi (Number (pos 2))) (Of2 binary.Cons (Of unary.Vi (Number (pos 0))) (Of2 binary.Cons (Of unary.Vi (Number (pos 0))) Nil))))) ∷ []) }) }) (record { temps = (name_s ∷ name_t ∷ name_i ∷ name_x1 ∷ name_d0 ∷ name_p1 ∷ name_q1 ∷ []); body = (c.Then (c.Set 0 (c.Const 3)) (c.Then (c.Set 1 (c.Const 1)) (c.Then (c.Store (root.Global name_arr 4) (c.Index kind.Signed (c.Const 0) c.Here) (c.Temp 1)) (c.Then (c.Load 0 (root.Global name_g 1) c.Here) (c.Then (c.Return (Some (c.Temp 1))) c.End))))) }) (s.Then 1 (s.Set ([]) ([])) s.NoBlock (s.Then 2 (s.Set ([]) ([])) s.NoBlock (s.Then 3 (s.Store 2 ([]) ([])) s.NoBlock (s.Then 4 (s.Load 0 ([]) ([])) s.NoBlock (s.Then 5 (s.Return ([]) ([]) ([])) s.NoBlock s.End))))) ≡ (RefusedAt 5 9 5)
unfolding computing
random_856 = refl

random_857 : body_verdict (record { predicates = ([]); specs = ((record { is_void = false; name = name_main; params = ([]); vars = []; pre = (record { opened = []; facts = ([]); locals = []; items = ((Data (Number (pos 64)) (Global name_g) (Of2 binary.Cons (Of unary.Vi (Number (pos 3))) Nil)) ∷ (Data (Number (pos 64)) (Global name_x) (Of2 binary.Cons (Of unary.Vi (Number (pos 3))) Nil)) ∷ (Data (Number (pos 64)) (Global name_arr) (Of2 binary.Cons (Of unary.Vi (Number (pos 1))) (Of2 binary.Cons (Of unary.Vi (Number (pos 2))) (Of2 binary.Cons (Of unary.Vi (Number (pos 0))) (Of2 binary.Cons (Of unary.Vi (Number (pos 0))) Nil))))) ∷ []) }); post = (record { opened = []; facts = ((Rel relation.Eq (Var 0 sort.Val) (Of unary.Vi (Number (pos 1)))) ∷ []); locals = []; items = ((Data (Number (pos 64)) (Global name_g) (Of2 binary.Cons (Of unary.Vi (Number (pos 3))) Nil)) ∷ (Data (Number (pos 64)) (Global name_x) (Of2 binary.Cons (Of unary.Vi (Number (pos 3))) Nil)) ∷ (Data (Number (pos 64)) (Global name_arr) (Of2 binary.Cons (Of unary.Vi (Number (pos 1))) (Of2 binary.Cons (Of unary.Vi (Number (pos 2))) (Of2 binary.Cons (Of unary.Vi (Number (pos 0))) (Of2 binary.Cons (Of unary.Vi (Number (pos 0))) Nil))))) ∷ []) }) }) ∷ []) }) (record { is_void = false; name = name_main; params = ([]); vars = []; pre = (record { opened = []; facts = ([]); locals = []; items = ((Data (Number (pos 64)) (Global name_g) (Of2 binary.Cons (Of unary.Vi (Number (pos 3))) Nil)) ∷ (Data (Number (pos 64)) (Global name_x) (Of2 binary.Cons (Of unary.Vi (Number (pos 3))) Nil)) ∷ (Data (Number (pos 64)) (Global name_arr) (Of2 binary.Cons (Of unary.Vi (Number (pos 1))) (Of2 binary.Cons (Of unary.Vi (Number (pos 2))) (Of2 binary.Cons (Of unary.Vi (Number (pos 0))) (Of2 binary.Cons (Of unary.Vi (Number (pos 0))) Nil))))) ∷ []) }); post = (record { opened = []; facts = ((Rel relation.Eq (Var 0 sort.Val) (Of unary.Vi (Number (pos 1)))) ∷ []); locals = []; items = ((Data (Number (pos 64)) (Global name_g) (Of2 binary.Cons (Of unary.Vi (Number (pos 3))) Nil)) ∷ (Data (Number (pos 64)) (Global name_x) (Of2 binary.Cons (Of unary.Vi (Number (pos 3))) Nil)) ∷ (Data (Number (pos 64)) (Global name_arr) (Of2 binary.Cons (Of unary.Vi (Number (pos 1))) (Of2 binary.Cons (Of unary.Vi (Number (pos 2))) (Of2 binary.Cons (Of unary.Vi (Number (pos 0))) (Of2 binary.Cons (Of unary.Vi (Number (pos 0))) Nil))))) ∷ []) }) }) (record { temps = (name_s ∷ name_t ∷ name_i ∷ name_x1 ∷ name_d0 ∷ name_p1 ∷ name_q1 ∷ []); body = (c.Then (c.Set 0 (c.Const 3)) (c.Then (c.Set 1 (c.Const 1)) (c.Then (c.Store (root.Global name_arr 4) (c.Index kind.Signed (c.Const 0) c.Here) (c.Temp 1)) (c.Then (c.Load 0 (root.Global name_g 1) c.Here) (c.Then (c.Return (Some (c.Temp 1))) c.End))))) }) (s.Then 1 (s.Set ([]) ([])) s.NoBlock (s.Then 2 (s.Rewrite true 0 (occurrence.Item 0)) s.NoBlock (s.Then 3 (s.Store 2 ([]) ([])) s.NoBlock (s.Then 4 (s.Load 0 ([]) ([])) s.NoBlock (s.Then 5 (s.Return ([]) ([]) ([])) s.NoBlock s.End))))) ≡ (RefusedAt 2 28 1)
unfolding computing
random_857 = refl

random_858 : body_verdict (record { predicates = ([]); specs = ((record { is_void = false; name = name_main; params = ([]); vars = []; pre = (record { opened = []; facts = ([]); locals = []; items = ((Data (Number (pos 64)) (Global name_g) (Of2 binary.Cons (Of unary.Vi (Number (pos 3))) Nil)) ∷ (Data (Number (pos 64)) (Global name_x) (Of2 binary.Cons (Of unary.Vi (Number (pos 3))) Nil)) ∷ (Data (Number (pos 64)) (Global name_arr) (Of2 binary.Cons (Of unary.Vi (Number (pos 1))) (Of2 binary.Cons (Of unary.Vi (Number (pos 2))) (Of2 binary.Cons (Of unary.Vi (Number (pos 0))) (Of2 binary.Cons (Of unary.Vi (Number (pos 0))) Nil))))) ∷ []) }); post = (record { opened = []; facts = ((Rel relation.Eq (Var 0 sort.Val) (Of unary.Vi (Number (pos 1)))) ∷ []); locals = []; items = ((Data (Number (pos 64)) (Global name_g) (Of2 binary.Cons (Of unary.Vi (Number (pos 3))) Nil)) ∷ (Data (Number (pos 64)) (Global name_x) (Of2 binary.Cons (Of unary.Vi (Number (pos 3))) Nil)) ∷ (Data (Number (pos 64)) (Global name_arr) (Of2 binary.Cons (Of unary.Vi (Number (pos 1))) (Of2 binary.Cons (Of unary.Vi (Number (pos 2))) (Of2 binary.Cons (Of unary.Vi (Number (pos 0))) (Of2 binary.Cons (Of unary.Vi (Number (pos 0))) Nil))))) ∷ []) }) }) ∷ []) }) (record { is_void = false; name = name_main; params = ([]); vars = []; pre = (record { opened = []; facts = ([]); locals = []; items = ((Data (Number (pos 64)) (Global name_g) (Of2 binary.Cons (Of unary.Vi (Number (pos 3))) Nil)) ∷ (Data (Number (pos 64)) (Global name_x) (Of2 binary.Cons (Of unary.Vi (Number (pos 3))) Nil)) ∷ (Data (Number (pos 64)) (Global name_arr) (Of2 binary.Cons (Of unary.Vi (Number (pos 1))) (Of2 binary.Cons (Of unary.Vi (Number (pos 2))) (Of2 binary.Cons (Of unary.Vi (Number (pos 0))) (Of2 binary.Cons (Of unary.Vi (Number (pos 0))) Nil))))) ∷ []) }); post = (record { opened = []; facts = ((Rel relation.Eq (Var 0 sort.Val) (Of unary.Vi (Number (pos 1)))) ∷ []); locals = []; items = ((Data (Number (pos 64)) (Global name_g) (Of2 binary.Cons (Of unary.Vi (Number (pos 3))) Nil)) ∷ (Data (Number (pos 64)) (Global name_x) (Of2 binary.Cons (Of unary.Vi (Number (pos 3))) Nil)) ∷ (Data (Number (pos 64)) (Global name_arr) (Of2 binary.Cons (Of unary.Vi (Number (pos 1))) (Of2 binary.Cons (Of unary.Vi (Number (pos 2))) (Of2 binary.Cons (Of unary.Vi (Number (pos 0))) (Of2 binary.Cons (Of unary.Vi (Number (pos 0))) Nil))))) ∷ []) }) }) (record { temps = (name_s ∷ name_t ∷ name_i ∷ name_x1 ∷ name_d0 ∷ name_p1 ∷ name_q1 ∷ []); body = (c.Then (c.Set 0 (c.Const 3)) (c.Then (c.Set 1 (c.Const 1)) (c.Then (c.Store (root.Global name_arr 4) (c.Index kind.Signed (c.Const 0) c.Here) (c.Temp 1)) (c.Then (c.Load 0 (root.Global name_g 1) c.Here) (c.Then (c.Return (Some (c.Temp 1))) c.End))))) }) (s.Then 1 (s.Set ([]) ([])) s.NoBlock (s.Then 2 (s.Set ([]) ([])) s.NoBlock (s.Then 3 (s.Store 2 ([]) ([])) s.NoBlock (s.Then 4 (s.Load 64 ([]) ([])) s.NoBlock (s.Then 5 (s.Return ([]) ([]) ([])) s.NoBlock s.End))))) ≡ (RefusedAt 4 3 1)
unfolding computing
random_858 = refl

random_859 : body_verdict (record { predicates = ((record { name = name_two; args = (sort.Val ∷ []); cases = ((record { opened = []; facts = ((Rel relation.Eq (Var 0 sort.Val) (Of unary.Vi (Number (pos 0)))) ∷ []); locals = []; items = ([]) }) ∷ (record { opened = (sort.Int ∷ sort.Val ∷ []); facts = ((Rel relation.Ne (Var 0 sort.Val) (Of unary.Vi (Number (pos 0)))) ∷ (Rel relation.Le (Number (pos 0)) (Var 1 sort.Int)) ∷ (Rel relation.Le (Var 1 sort.Int) (Number (pos 9))) ∷ []); locals = []; items = ((Data (Number (pos 64)) (Var 0 sort.Val) (Of2 binary.Cons (Of unary.Vi (Var 1 sort.Int)) (Of2 binary.Cons (Var 2 sort.Val) (Of2 binary.Cons (Of unary.Vi (Number (pos 7))) Nil)))) ∷ []) }) ∷ []) }) ∷ []); specs = ((record { is_void = true; name = name_f; params = (name_u0 ∷ name_s1 ∷ name_r2 ∷ []); vars = ((name_b0, sort.Int) ∷ (name_w1, sort.Val) ∷ (name_h1, sort.Int) ∷ (name_q1, sort.Val) ∷ (name_e2, sort.Val) ∷ (name_l2, sort.List) ∷ []); pre = (record { opened = []; facts = ((Rel relation.Le (Number (pos 0)) (Var 2 sort.Int)) ∷ (Rel relation.Le (Var 2 sort.Int) (Number (pos 20))) ∷ (Rel relation.Eq (Of unary.Len (Var 5 sort.List)) (Number (pos 4))) ∷ []); locals = ((name_u0, (Of unary.Vi (Var 0 sort.Int))) ∷ (name_s1, (Var 1 sort.Val)) ∷ (name_r2, (Var 4 sort.Val)) ∷ []); items = ((Pred (record { name = name_two; args = ((Var 1 sort.Val) ∷ []) })) ∷ (Data (Number (pos 64)) (Var 4 sort.Val) (Var 5 sort.List)) ∷ []) }); post = (record { opened = []; facts = ([]); locals = []; items = ([]) }) }) ∷ (record { is_void = false; name = name_main; params = ([]); vars = []; pre = (record { opened = []; facts = ([]); locals = []; items = ([]) }); post = (record { opened = []; facts = ((Rel relation.Eq (Var 0 sort.Val) (Of unary.Vi (Number (pos 0)))) ∷ []); locals = []; items = ([]) }) }) ∷ []) }) (record { is_void = true; name = name_f; params = (name_u0 ∷ name_s1 ∷ name_r2 ∷ []); vars = ((name_b0, sort.Int) ∷ (name_w1, sort.Val) ∷ (name_h1, sort.Int) ∷ (name_q1, sort.Val) ∷ (name_e2, sort.Val) ∷ (name_l2, sort.List) ∷ []); pre = (record { opened = []; facts = ((Rel relation.Le (Number (pos 0)) (Var 2 sort.Int)) ∷ (Rel relation.Le (Var 2 sort.Int) (Number (pos 20))) ∷ (Rel relation.Eq (Of unary.Len (Var 5 sort.List)) (Number (pos 4))) ∷ []); locals = ((name_u0, (Of unary.Vi (Var 0 sort.Int))) ∷ (name_s1, (Var 1 sort.Val)) ∷ (name_r2, (Var 4 sort.Val)) ∷ []); items = ((Pred (record { name = name_two; args = ((Var 1 sort.Val) ∷ []) })) ∷ (Data (Number (pos 64)) (Var 4 sort.Val) (Var 5 sort.List)) ∷ []) }); post = (record { opened = []; facts = ([]); locals = []; items = ([]) }) }) (record { temps = (name_u0 ∷ name_s1 ∷ name_r2 ∷ name_s ∷ name_t ∷ name_i ∷ name_x1 ∷ name_d0 ∷ name_p1 ∷ name_q1 ∷ []); body = (c.Then (c.Set 3 (c.Const 3)) (c.Then (c.Set 4 (c.Const 1)) (c.Then (c.Store (root.Temp 2) (c.Index kind.Signed (c.Const 3) c.Here) (c.Binary two.Add kind.Signed (c.Const 1) (c.Const 2))) (c.Then (c.Store (root.Temp 2) (c.Index kind.Signed (c.Const 3) c.Here) (c.Binary two.Mul kind.Signed (c.Temp 4) (c.Const 2))) (c.Then (c.If (c.Nonzero kind.Signed (c.Binary two.Lt kind.Signed (c.Const 2) (c.Const 5))) (c.Then (c.Set 6 (c.Binary two.Div kind.Unsigned (c.Const 4294967295) (c.Const 5))) c.End) (c.Then (c.Load 4 (root.Temp 2) (c.Index kind.Signed (c.Const 3) c.Here)) c.End)) (c.Then (c.If (c.Pointers (c.Temp 1) (c.Const 0) true) (c.Then (c.Return None) c.End) c.End) (c.Then (c.Set 3 (c.Temp 3)) (c.Then (c.Set 3 (c.Binary two.Add kind.Signed (c.Temp 3) (c.Const 2))) (c.Then (c.Return None) c.End))))))))) }) (s.Then 1 (s.Set ([]) ([])) s.NoBlock (s.Then 2 (s.Set ([]) ([])) s.NoBlock (s.Then 3 (s.Store 1 ([]) ((record { lines = ((line.Comb (((pos 1), 3) ∷ ((pos 1), 4) ∷ [])) ∷ []) }) ∷ [])) s.NoBlock (s.Then 4 (s.Law name_len_upd ((Named name_l2) ∷ (Number (pos 3)) ∷ (Of unary.Vi (Number (pos 3))) ∷ []) ([])) s.NoBlock (s.Then 5 (s.Store 1 ([]) ((record { lines = ((line.Comb (((pos 1), 5) ∷ ((pos 1), 3) ∷ ((pos 1), 6) ∷ [])) ∷ []) }) ∷ [])) s.NoBlock (s.Then 6 (s.Law name_len_upd ((Of3 ternary.Upd (Named name_l2) (Number (pos 3)) (Of unary.Vi (Number (pos 3)))) ∷ (Number (pos 3)) ∷ (Of unary.Vi (Number (pos 2))) ∷ []) ([])) s.NoBlock (s.Then 7 (s.If ([]) ([]) ([]) ([])) (s.WithBlock (s.Then 8 (s.Set ([]) ([])) s.NoBlock (s.Then 9 (s.If ([]) ([]) ([]) ([])) (s.WithBlock s.End (s.WithBlock s.End s.NoBlock)) s.End)) (s.WithBlock (s.Then 10 (s.Absurd ([])) s.NoBlock s.End) s.NoBlock)) s.End))))))) ≡ (RefusedAt 9 5 2)
unfolding computing
random_859 = refl

random_860 : body_verdict (record { predicates = ((record { name = name_two; args = (sort.Val ∷ []); cases = ((record { opened = []; facts = ((Rel relation.Eq (Var 0 sort.Val) (Of unary.Vi (Number (pos 0)))) ∷ []); locals = []; items = ([]) }) ∷ (record { opened = (sort.Int ∷ sort.Val ∷ []); facts = ((Rel relation.Ne (Var 0 sort.Val) (Of unary.Vi (Number (pos 0)))) ∷ (Rel relation.Le (Number (pos 0)) (Var 1 sort.Int)) ∷ (Rel relation.Le (Var 1 sort.Int) (Number (pos 9))) ∷ []); locals = []; items = ((Data (Number (pos 64)) (Var 0 sort.Val) (Of2 binary.Cons (Of unary.Vi (Var 1 sort.Int)) (Of2 binary.Cons (Var 2 sort.Val) (Of2 binary.Cons (Of unary.Vi (Number (pos 7))) Nil)))) ∷ []) }) ∷ []) }) ∷ []); specs = ((record { is_void = true; name = name_f; params = (name_u0 ∷ name_s1 ∷ name_r2 ∷ []); vars = ((name_b0, sort.Int) ∷ (name_w1, sort.Val) ∷ (name_h1, sort.Int) ∷ (name_q1, sort.Val) ∷ (name_e2, sort.Val) ∷ (name_l2, sort.List) ∷ []); pre = (record { opened = []; facts = ((Rel relation.Le (Number (pos 0)) (Var 2 sort.Int)) ∷ (Rel relation.Le (Var 2 sort.Int) (Number (pos 20))) ∷ (Rel relation.Eq (Of unary.Len (Var 5 sort.List)) (Number (pos 4))) ∷ []); locals = ((name_u0, (Of unary.Vi (Var 0 sort.Int))) ∷ (name_s1, (Var 1 sort.Val)) ∷ (name_r2, (Var 4 sort.Val)) ∷ []); items = ((Pred (record { name = name_two; args = ((Var 1 sort.Val) ∷ []) })) ∷ (Data (Number (pos 64)) (Var 4 sort.Val) (Var 5 sort.List)) ∷ []) }); post = (record { opened = []; facts = ([]); locals = []; items = ([]) }) }) ∷ (record { is_void = false; name = name_main; params = ([]); vars = []; pre = (record { opened = []; facts = ([]); locals = []; items = ([]) }); post = (record { opened = []; facts = ((Rel relation.Eq (Var 0 sort.Val) (Of unary.Vi (Number (pos 0)))) ∷ []); locals = []; items = ([]) }) }) ∷ []) }) (record { is_void = false; name = name_main; params = ([]); vars = []; pre = (record { opened = []; facts = ([]); locals = []; items = ([]) }); post = (record { opened = []; facts = ((Rel relation.Eq (Var 0 sort.Val) (Of unary.Vi (Number (pos 0)))) ∷ []); locals = []; items = ([]) }) }) (record { temps = ([]); body = (c.Then (c.Return (Some (c.Const 0))) c.End) }) (s.Then 1 (s.Return ([]) ([]) ([])) s.NoBlock s.End) ≡ Accepted
unfolding computing
random_860 = refl

random_861 : body_verdict (record { predicates = ((record { name = name_two; args = (sort.Val ∷ []); cases = ((record { opened = []; facts = ((Rel relation.Eq (Var 0 sort.Val) (Of unary.Vi (Number (pos 0)))) ∷ []); locals = []; items = ([]) }) ∷ (record { opened = (sort.Int ∷ sort.Val ∷ []); facts = ((Rel relation.Ne (Var 0 sort.Val) (Of unary.Vi (Number (pos 0)))) ∷ (Rel relation.Le (Number (pos 0)) (Var 1 sort.Int)) ∷ (Rel relation.Le (Var 1 sort.Int) (Number (pos 9))) ∷ []); locals = []; items = ((Data (Number (pos 64)) (Var 0 sort.Val) (Of2 binary.Cons (Of unary.Vi (Var 1 sort.Int)) (Of2 binary.Cons (Var 2 sort.Val) (Of2 binary.Cons (Of unary.Vi (Number (pos 7))) Nil)))) ∷ []) }) ∷ []) }) ∷ []); specs = ((record { is_void = true; name = name_f; params = (name_u0 ∷ name_s1 ∷ name_r2 ∷ []); vars = ((name_b0, sort.Int) ∷ (name_w1, sort.Val) ∷ (name_h1, sort.Int) ∷ (name_q1, sort.Val) ∷ (name_e2, sort.Val) ∷ (name_l2, sort.List) ∷ []); pre = (record { opened = []; facts = ((Rel relation.Le (Number (pos 0)) (Var 2 sort.Int)) ∷ (Rel relation.Le (Var 2 sort.Int) (Number (pos 20))) ∷ (Rel relation.Eq (Of unary.Len (Var 5 sort.List)) (Number (pos 4))) ∷ []); locals = ((name_u0, (Of unary.Vi (Var 0 sort.Int))) ∷ (name_s1, (Var 1 sort.Val)) ∷ (name_r2, (Var 4 sort.Val)) ∷ []); items = ((Pred (record { name = name_two; args = ((Var 1 sort.Val) ∷ []) })) ∷ (Data (Number (pos 64)) (Var 4 sort.Val) (Var 5 sort.List)) ∷ []) }); post = (record { opened = []; facts = ([]); locals = []; items = ([]) }) }) ∷ (record { is_void = false; name = name_main; params = ([]); vars = []; pre = (record { opened = []; facts = ([]); locals = []; items = ([]) }); post = (record { opened = []; facts = ((Rel relation.Eq (Var 0 sort.Val) (Of unary.Vi (Number (pos 0)))) ∷ []); locals = []; items = ([]) }) }) ∷ []) }) (record { is_void = true; name = name_f; params = (name_u0 ∷ name_s1 ∷ name_r2 ∷ []); vars = ((name_b0, sort.Int) ∷ (name_w1, sort.Val) ∷ (name_h1, sort.Int) ∷ (name_q1, sort.Val) ∷ (name_e2, sort.Val) ∷ (name_l2, sort.List) ∷ []); pre = (record { opened = []; facts = ((Rel relation.Le (Number (pos 0)) (Var 2 sort.Int)) ∷ (Rel relation.Le (Var 2 sort.Int) (Number (pos 20))) ∷ (Rel relation.Eq (Of unary.Len (Var 5 sort.List)) (Number (pos 4))) ∷ []); locals = ((name_u0, (Of unary.Vi (Var 0 sort.Int))) ∷ (name_s1, (Var 1 sort.Val)) ∷ (name_r2, (Var 4 sort.Val)) ∷ []); items = ((Pred (record { name = name_two; args = ((Var 1 sort.Val) ∷ []) })) ∷ (Data (Number (pos 64)) (Var 4 sort.Val) (Var 5 sort.List)) ∷ []) }); post = (record { opened = []; facts = ([]); locals = []; items = ([]) }) }) (record { temps = (name_u0 ∷ name_s1 ∷ name_r2 ∷ name_s ∷ name_t ∷ name_i ∷ name_x1 ∷ name_d0 ∷ name_p1 ∷ name_q1 ∷ []); body = (c.Then (c.Set 3 (c.Const 3)) (c.Then (c.Set 4 (c.Const 1)) (c.Then (c.Store (root.Temp 2) (c.Index kind.Signed (c.Const 3) c.Here) (c.Binary two.Add kind.Signed (c.Const 1) (c.Const 2))) (c.Then (c.Store (root.Temp 2) (c.Index kind.Signed (c.Const 3) c.Here) (c.Binary two.Mul kind.Signed (c.Temp 4) (c.Const 2))) (c.Then (c.If (c.Nonzero kind.Signed (c.Binary two.Lt kind.Signed (c.Const 2) (c.Const 5))) (c.Then (c.Set 6 (c.Binary two.Div kind.Unsigned (c.Const 4294967295) (c.Const 5))) c.End) (c.Then (c.Load 4 (root.Temp 2) (c.Index kind.Signed (c.Const 3) c.Here)) c.End)) (c.Then (c.If (c.Pointers (c.Temp 1) (c.Const 0) true) (c.Then (c.Return None) c.End) c.End) (c.Then (c.Set 3 (c.Temp 3)) (c.Then (c.Set 3 (c.Binary two.Add kind.Signed (c.Temp 3) (c.Const 2))) (c.Then (c.Return None) c.End))))))))) }) (s.Then 1 (s.Set ([]) ([])) s.NoBlock (s.Then 2 (s.Set ([]) ([])) s.NoBlock (s.Then 3 (s.Store 1 ([]) ((record { lines = ((line.Comb (((pos 1), 3) ∷ ((pos 1), 4) ∷ [])) ∷ []) }) ∷ [])) s.NoBlock (s.Then 4 (s.Law name_len_upd ((Named name_l2) ∷ (Number (pos 3)) ∷ (Of unary.Vi (Number (pos 3))) ∷ []) ([])) s.NoBlock (s.Then 5 (s.Store 1 ([]) ((record { lines = ((line.Comb (((pos 1), 5) ∷ ((pos 1), 3) ∷ ((pos 1), 6) ∷ [])) ∷ []) }) ∷ [])) s.NoBlock (s.Then 6 (s.Law name_len_upd ((Of3 ternary.Upd (Named name_l2) (Number (pos 3)) (Of unary.Vi (Number (pos 3)))) ∷ (Number (pos 3)) ∷ (Of unary.Vi (Number (pos 2))) ∷ []) ([])) s.NoBlock (s.Then 7 (s.If ([]) ([]) ([]) ([])) (s.WithBlock (s.Then 8 (s.If ([]) ([]) ([]) ([])) (s.WithBlock s.End (s.WithBlock s.End s.NoBlock)) s.End) (s.WithBlock (s.Then 9 (s.Absurd ([])) s.NoBlock s.End) s.NoBlock)) s.End))))))) ≡ (RefusedAt 8 5 1)
unfolding computing
random_861 = refl

random_862 : body_verdict (record { predicates = ((record { name = name_two; args = (sort.Val ∷ []); cases = ((record { opened = []; facts = ((Rel relation.Eq (Var 0 sort.Val) (Of unary.Vi (Number (pos 0)))) ∷ []); locals = []; items = ([]) }) ∷ (record { opened = (sort.Int ∷ sort.Val ∷ []); facts = ((Rel relation.Ne (Var 0 sort.Val) (Of unary.Vi (Number (pos 0)))) ∷ (Rel relation.Le (Number (pos 0)) (Var 1 sort.Int)) ∷ (Rel relation.Le (Var 1 sort.Int) (Number (pos 9))) ∷ []); locals = []; items = ((Data (Number (pos 64)) (Var 0 sort.Val) (Of2 binary.Cons (Of unary.Vi (Var 1 sort.Int)) (Of2 binary.Cons (Var 2 sort.Val) (Of2 binary.Cons (Of unary.Vi (Number (pos 7))) Nil)))) ∷ []) }) ∷ []) }) ∷ []); specs = ((record { is_void = true; name = name_f; params = (name_u0 ∷ name_s1 ∷ name_r2 ∷ []); vars = ((name_b0, sort.Int) ∷ (name_w1, sort.Val) ∷ (name_h1, sort.Int) ∷ (name_q1, sort.Val) ∷ (name_e2, sort.Val) ∷ (name_l2, sort.List) ∷ []); pre = (record { opened = []; facts = ((Rel relation.Le (Number (pos 0)) (Var 2 sort.Int)) ∷ (Rel relation.Le (Var 2 sort.Int) (Number (pos 20))) ∷ (Rel relation.Eq (Of unary.Len (Var 5 sort.List)) (Number (pos 4))) ∷ []); locals = ((name_u0, (Of unary.Vi (Var 0 sort.Int))) ∷ (name_s1, (Var 1 sort.Val)) ∷ (name_r2, (Var 4 sort.Val)) ∷ []); items = ((Pred (record { name = name_two; args = ((Var 1 sort.Val) ∷ []) })) ∷ (Data (Number (pos 64)) (Var 4 sort.Val) (Var 5 sort.List)) ∷ []) }); post = (record { opened = []; facts = ([]); locals = []; items = ([]) }) }) ∷ (record { is_void = false; name = name_main; params = ([]); vars = []; pre = (record { opened = []; facts = ([]); locals = []; items = ([]) }); post = (record { opened = []; facts = ((Rel relation.Eq (Var 0 sort.Val) (Of unary.Vi (Number (pos 0)))) ∷ []); locals = []; items = ([]) }) }) ∷ []) }) (record { is_void = true; name = name_f; params = (name_u0 ∷ name_s1 ∷ name_r2 ∷ []); vars = ((name_b0, sort.Int) ∷ (name_w1, sort.Val) ∷ (name_h1, sort.Int) ∷ (name_q1, sort.Val) ∷ (name_e2, sort.Val) ∷ (name_l2, sort.List) ∷ []); pre = (record { opened = []; facts = ((Rel relation.Le (Number (pos 0)) (Var 2 sort.Int)) ∷ (Rel relation.Le (Var 2 sort.Int) (Number (pos 20))) ∷ (Rel relation.Eq (Of unary.Len (Var 5 sort.List)) (Number (pos 4))) ∷ []); locals = ((name_u0, (Of unary.Vi (Var 0 sort.Int))) ∷ (name_s1, (Var 1 sort.Val)) ∷ (name_r2, (Var 4 sort.Val)) ∷ []); items = ((Pred (record { name = name_two; args = ((Var 1 sort.Val) ∷ []) })) ∷ (Data (Number (pos 64)) (Var 4 sort.Val) (Var 5 sort.List)) ∷ []) }); post = (record { opened = []; facts = ([]); locals = []; items = ([]) }) }) (record { temps = (name_u0 ∷ name_s1 ∷ name_r2 ∷ name_s ∷ name_t ∷ name_i ∷ name_x1 ∷ name_d0 ∷ name_p1 ∷ name_q1 ∷ []); body = (c.Then (c.Set 3 (c.Const 3)) (c.Then (c.Set 4 (c.Const 1)) (c.Then (c.Store (root.Temp 2) (c.Index kind.Signed (c.Const 3) c.Here) (c.Binary two.Add kind.Signed (c.Const 1) (c.Const 2))) (c.Then (c.Store (root.Temp 2) (c.Index kind.Signed (c.Const 3) c.Here) (c.Binary two.Mul kind.Signed (c.Temp 4) (c.Const 2))) (c.Then (c.If (c.Nonzero kind.Signed (c.Binary two.Lt kind.Signed (c.Const 2) (c.Const 5))) (c.Then (c.Set 6 (c.Binary two.Div kind.Unsigned (c.Const 4294967295) (c.Const 5))) c.End) (c.Then (c.Load 4 (root.Temp 2) (c.Index kind.Signed (c.Const 3) c.Here)) c.End)) (c.Then (c.If (c.Pointers (c.Temp 1) (c.Const 0) true) (c.Then (c.Return None) c.End) c.End) (c.Then (c.Set 3 (c.Binary two.Add kind.Signed (c.Temp 3) (c.Const 2))) (c.Then (c.Return None) c.End)))))))) }) (s.Then 1 (s.Set ([]) ([])) s.NoBlock (s.Then 2 (s.Set ([]) ([])) s.NoBlock (s.Then 3 (s.Store 1 ([]) ((record { lines = ((line.Comb (((pos 1), 3) ∷ ((pos 1), 4) ∷ [])) ∷ []) }) ∷ [])) s.NoBlock (s.Then 4 (s.Law name_len_upd ((Named name_l2) ∷ (Number (pos 3)) ∷ (Of unary.Vi (Number (pos 3))) ∷ []) ([])) s.NoBlock (s.Then 5 (s.Store 1 ([]) ((record { lines = ((line.Comb (((pos 1), 5) ∷ ((pos 1), 3) ∷ ((pos 1), 6) ∷ [])) ∷ []) }) ∷ [])) s.NoBlock (s.Then 6 (s.Law name_len_upd ((Of3 ternary.Upd (Named name_l2) (Number (pos 3)) (Of unary.Vi (Number (pos 3)))) ∷ (Number (pos 3)) ∷ (Of unary.Vi (Number (pos 2))) ∷ []) ([])) s.NoBlock (s.Then 7 (s.If ([]) ([]) ([]) ([])) (s.WithBlock (s.Then 8 (s.Set ([]) ([])) s.NoBlock (s.Then 9 (s.If ([]) ([]) ([]) ([])) (s.WithBlock s.End (s.WithBlock s.End s.NoBlock)) s.End)) (s.WithBlock (s.Then 10 (s.Absurd ([])) s.NoBlock s.End) s.NoBlock)) s.End))))))) ≡ (RefusedAt 9 5 2)
unfolding computing
random_862 = refl

random_863 : body_verdict (record { predicates = ((record { name = name_two; args = (sort.Val ∷ []); cases = ((record { opened = []; facts = ((Rel relation.Eq (Var 0 sort.Val) (Of unary.Vi (Number (pos 0)))) ∷ []); locals = []; items = ([]) }) ∷ (record { opened = (sort.Int ∷ sort.Val ∷ []); facts = ((Rel relation.Ne (Var 0 sort.Val) (Of unary.Vi (Number (pos 0)))) ∷ (Rel relation.Le (Number (pos 0)) (Var 1 sort.Int)) ∷ (Rel relation.Le (Var 1 sort.Int) (Number (pos 9))) ∷ []); locals = []; items = ((Data (Number (pos 64)) (Var 0 sort.Val) (Of2 binary.Cons (Of unary.Vi (Var 1 sort.Int)) (Of2 binary.Cons (Var 2 sort.Val) (Of2 binary.Cons (Of unary.Vi (Number (pos 7))) Nil)))) ∷ []) }) ∷ []) }) ∷ []); specs = ((record { is_void = true; name = name_f; params = (name_u0 ∷ name_s1 ∷ name_r2 ∷ []); vars = ((name_b0, sort.Int) ∷ (name_w1, sort.Val) ∷ (name_h1, sort.Int) ∷ (name_q1, sort.Val) ∷ (name_e2, sort.Val) ∷ (name_l2, sort.List) ∷ []); pre = (record { opened = []; facts = ((Rel relation.Le (Number (pos 0)) (Var 2 sort.Int)) ∷ (Rel relation.Le (Var 2 sort.Int) (Number (pos 20))) ∷ (Rel relation.Eq (Of unary.Len (Var 5 sort.List)) (Number (pos 4))) ∷ []); locals = ((name_u0, (Of unary.Vi (Var 0 sort.Int))) ∷ (name_s1, (Var 1 sort.Val)) ∷ (name_r2, (Var 4 sort.Val)) ∷ []); items = ((Pred (record { name = name_two; args = ((Var 1 sort.Val) ∷ []) })) ∷ (Data (Number (pos 64)) (Var 4 sort.Val) (Var 5 sort.List)) ∷ []) }); post = (record { opened = []; facts = ([]); locals = []; items = ([]) }) }) ∷ (record { is_void = false; name = name_main; params = ([]); vars = []; pre = (record { opened = []; facts = ([]); locals = []; items = ([]) }); post = (record { opened = []; facts = ((Rel relation.Eq (Var 0 sort.Val) (Of unary.Vi (Number (pos 0)))) ∷ []); locals = []; items = ([]) }) }) ∷ []) }) (record { is_void = true; name = name_f; params = (name_u0 ∷ name_s1 ∷ name_r2 ∷ []); vars = ((name_b0, sort.Int) ∷ (name_w1, sort.Val) ∷ (name_h1, sort.Int) ∷ (name_q1, sort.Val) ∷ (name_e2, sort.Val) ∷ (name_l2, sort.List) ∷ []); pre = (record { opened = []; facts = ((Rel relation.Le (Number (pos 0)) (Var 2 sort.Int)) ∷ (Rel relation.Le (Var 2 sort.Int) (Number (pos 20))) ∷ (Rel relation.Eq (Of unary.Len (Var 5 sort.List)) (Number (pos 4))) ∷ []); locals = ((name_u0, (Of unary.Vi (Var 0 sort.Int))) ∷ (name_s1, (Var 1 sort.Val)) ∷ (name_r2, (Var 4 sort.Val)) ∷ []); items = ((Pred (record { name = name_two; args = ((Var 1 sort.Val) ∷ []) })) ∷ (Data (Number (pos 64)) (Var 4 sort.Val) (Var 5 sort.List)) ∷ []) }); post = (record { opened = []; facts = ([]); locals = []; items = ([]) }) }) (record { temps = (name_u0 ∷ name_s1 ∷ name_r2 ∷ name_s ∷ name_t ∷ name_i ∷ name_x1 ∷ name_d0 ∷ name_p1 ∷ name_q1 ∷ []); body = (c.Then (c.Set 3 (c.Const 3)) (c.Then (c.Set 4 (c.Const 1)) (c.Then (c.Store (root.Temp 2) (c.Index kind.Signed (c.Const 3) c.Here) (c.Binary two.Add kind.Signed (c.Const 1) (c.Const 2))) (c.Then (c.Store (root.Temp 2) (c.Index kind.Signed (c.Const 3) c.Here) (c.Binary two.Mul kind.Signed (c.Temp 4) (c.Const 2))) (c.Then (c.If (c.Nonzero kind.Signed (c.Binary two.Lt kind.Signed (c.Const 2) (c.Const 5))) (c.Then (c.Set 6 (c.Binary two.Div kind.Unsigned (c.Const 4294967295) (c.Const 5))) c.End) (c.Then (c.Load 4 (root.Temp 2) (c.Index kind.Signed (c.Const 3) c.Here)) c.End)) (c.Then (c.If (c.Pointers (c.Temp 1) (c.Const 0) true) (c.Then (c.Return None) c.End) c.End) (c.Then (c.Set 3 (c.Temp 3)) (c.Then (c.Set 3 (c.Binary two.Add kind.Signed (c.Temp 3) (c.Const 2))) (c.Then (c.Return None) c.End))))))))) }) (s.Then 1 (s.Set ([]) ([])) s.NoBlock (s.Then 2 (s.Set ([]) ([])) s.NoBlock (s.Then 3 (s.Store 1 ([]) ((record { lines = ((line.Comb (((pos 1), 5) ∷ ((pos 1), 3) ∷ ((pos 1), 6) ∷ [])) ∷ []) }) ∷ [])) s.NoBlock (s.Then 4 (s.Store 1 ([]) ((record { lines = ((line.Comb (((pos 1), 3) ∷ ((pos 1), 4) ∷ [])) ∷ []) }) ∷ [])) s.NoBlock (s.Then 5 (s.Law name_len_upd ((Named name_l2) ∷ (Number (pos 3)) ∷ (Of unary.Vi (Number (pos 3))) ∷ []) ([])) s.NoBlock (s.Then 6 (s.Store 1 ([]) ((record { lines = ((line.Comb (((pos 1), 5) ∷ ((pos 1), 3) ∷ ((pos 1), 6) ∷ [])) ∷ []) }) ∷ [])) s.NoBlock (s.Then 7 (s.Law name_len_upd ((Of3 ternary.Upd (Named name_l2) (Number (pos 3)) (Of unary.Vi (Number (pos 3)))) ∷ (Number (pos 3)) ∷ (Of unary.Vi (Number (pos 2))) ∷ []) ([])) s.NoBlock (s.Then 8 (s.If ([]) ([]) ([]) ([])) (s.WithBlock (s.Then 9 (s.Set ([]) ([])) s.NoBlock (s.Then 10 (s.If ([]) ([]) ([]) ([])) (s.WithBlock s.End (s.WithBlock s.End s.NoBlock)) s.End)) (s.WithBlock (s.Then 11 (s.Absurd ([])) s.NoBlock s.End) s.NoBlock)) s.End)))))))) ≡ (RefusedAt 3 4 3)
unfolding computing
random_863 = refl

random_864 : body_verdict (record { predicates = ((record { name = name_two; args = (sort.Val ∷ []); cases = ((record { opened = []; facts = ((Rel relation.Eq (Var 0 sort.Val) (Of unary.Vi (Number (pos 0)))) ∷ []); locals = []; items = ([]) }) ∷ (record { opened = (sort.Int ∷ sort.Val ∷ []); facts = ((Rel relation.Ne (Var 0 sort.Val) (Of unary.Vi (Number (pos 0)))) ∷ (Rel relation.Le (Number (pos 0)) (Var 1 sort.Int)) ∷ (Rel relation.Le (Var 1 sort.Int) (Number (pos 9))) ∷ []); locals = []; items = ((Data (Number (pos 64)) (Var 0 sort.Val) (Of2 binary.Cons (Of unary.Vi (Var 1 sort.Int)) (Of2 binary.Cons (Var 2 sort.Val) (Of2 binary.Cons (Of unary.Vi (Number (pos 7))) Nil)))) ∷ []) }) ∷ []) }) ∷ []); specs = ((record { is_void = true; name = name_f; params = (name_u0 ∷ name_s1 ∷ name_r2 ∷ []); vars = ((name_b0, sort.Int) ∷ (name_w1, sort.Val) ∷ (name_h1, sort.Int) ∷ (name_q1, sort.Val) ∷ (name_e2, sort.Val) ∷ (name_l2, sort.List) ∷ []); pre = (record { opened = []; facts = ((Rel relation.Le (Number (pos 0)) (Var 2 sort.Int)) ∷ (Rel relation.Le (Var 2 sort.Int) (Number (pos 20))) ∷ (Rel relation.Eq (Of unary.Len (Var 5 sort.List)) (Number (pos 4))) ∷ []); locals = ((name_u0, (Of unary.Vi (Var 0 sort.Int))) ∷ (name_s1, (Var 1 sort.Val)) ∷ (name_r2, (Var 4 sort.Val)) ∷ []); items = ((Pred (record { name = name_two; args = ((Var 1 sort.Val) ∷ []) })) ∷ (Data (Number (pos 64)) (Var 4 sort.Val) (Var 5 sort.List)) ∷ []) }); post = (record { opened = []; facts = ([]); locals = []; items = ([]) }) }) ∷ (record { is_void = false; name = name_main; params = ([]); vars = []; pre = (record { opened = []; facts = ([]); locals = []; items = ([]) }); post = (record { opened = []; facts = ((Rel relation.Eq (Var 0 sort.Val) (Of unary.Vi (Number (pos 0)))) ∷ []); locals = []; items = ([]) }) }) ∷ []) }) (record { is_void = true; name = name_f; params = (name_u0 ∷ name_s1 ∷ name_r2 ∷ []); vars = ((name_b0, sort.Int) ∷ (name_w1, sort.Val) ∷ (name_h1, sort.Int) ∷ (name_q1, sort.Val) ∷ (name_e2, sort.Val) ∷ (name_l2, sort.List) ∷ []); pre = (record { opened = []; facts = ((Rel relation.Le (Number (pos 0)) (Var 2 sort.Int)) ∷ (Rel relation.Le (Var 2 sort.Int) (Number (pos 20))) ∷ (Rel relation.Eq (Of unary.Len (Var 5 sort.List)) (Number (pos 4))) ∷ []); locals = ((name_u0, (Of unary.Vi (Var 0 sort.Int))) ∷ (name_s1, (Var 1 sort.Val)) ∷ (name_r2, (Var 4 sort.Val)) ∷ []); items = ((Pred (record { name = name_two; args = ((Var 1 sort.Val) ∷ []) })) ∷ (Data (Number (pos 64)) (Var 4 sort.Val) (Var 5 sort.List)) ∷ []) }); post = (record { opened = []; facts = ([]); locals = []; items = ([]) }) }) (record { temps = (name_u0 ∷ name_s1 ∷ name_r2 ∷ name_s ∷ name_t ∷ name_i ∷ name_x1 ∷ name_d0 ∷ name_p1 ∷ name_q1 ∷ []); body = (c.Then (c.Set 3 (c.Const 3)) (c.Then (c.Set 4 (c.Const 1)) (c.Then (c.Store (root.Temp 2) (c.Index kind.Signed (c.Const 3) c.Here) (c.Binary two.Add kind.Signed (c.Const 1) (c.Const 2))) (c.Then (c.Store (root.Temp 2) (c.Index kind.Signed (c.Const 3) c.Here) (c.Binary two.Mul kind.Signed (c.Temp 4) (c.Const 2))) (c.Then (c.If (c.Nonzero kind.Signed (c.Binary two.Lt kind.Signed (c.Const 2) (c.Const 5))) (c.Then (c.Set 6 (c.Binary two.Div kind.Unsigned (c.Const 4294967295) (c.Const 5))) c.End) (c.Then (c.Load 4 (root.Temp 2) (c.Index kind.Signed (c.Const 3) c.Here)) c.End)) (c.Then (c.If (c.Pointers (c.Temp 1) (c.Const 0) true) (c.Then (c.Return None) c.End) c.End) (c.Then (c.Set 3 (c.Temp 3)) (c.Then (c.Set 3 (c.Binary two.Add kind.Signed (c.Temp 3) (c.Const 2))) (c.Then (c.Return None) c.End))))))))) }) (s.Then 1 s.Skip s.NoBlock (s.Then 2 (s.Set ([]) ([])) s.NoBlock (s.Then 3 (s.Store 1 ([]) ((record { lines = ((line.Comb (((pos 1), 3) ∷ ((pos 1), 4) ∷ [])) ∷ []) }) ∷ [])) s.NoBlock (s.Then 4 (s.Law name_len_upd ((Named name_l2) ∷ (Number (pos 3)) ∷ (Of unary.Vi (Number (pos 3))) ∷ []) ([])) s.NoBlock (s.Then 5 (s.Store 1 ([]) ((record { lines = ((line.Comb (((pos 1), 5) ∷ ((pos 1), 3) ∷ ((pos 1), 6) ∷ [])) ∷ []) }) ∷ [])) s.NoBlock (s.Then 6 (s.Law name_len_upd ((Of3 ternary.Upd (Named name_l2) (Number (pos 3)) (Of unary.Vi (Number (pos 3)))) ∷ (Number (pos 3)) ∷ (Of unary.Vi (Number (pos 2))) ∷ []) ([])) s.NoBlock (s.Then 7 (s.If ([]) ([]) ([]) ([])) (s.WithBlock (s.Then 8 (s.Set ([]) ([])) s.NoBlock (s.Then 9 (s.If ([]) ([]) ([]) ([])) (s.WithBlock s.End (s.WithBlock s.End s.NoBlock)) s.End)) (s.WithBlock (s.Then 10 (s.Absurd ([])) s.NoBlock s.End) s.NoBlock)) s.End))))))) ≡ (RefusedAt 1 1 1)
unfolding computing
random_864 = refl

random_865 : body_verdict (record { predicates = ((record { name = name_two; args = (sort.Val ∷ []); cases = ((record { opened = []; facts = ((Rel relation.Eq (Var 0 sort.Val) (Of unary.Vi (Number (pos 0)))) ∷ []); locals = []; items = ([]) }) ∷ (record { opened = (sort.Int ∷ sort.Val ∷ []); facts = ((Rel relation.Ne (Var 0 sort.Val) (Of unary.Vi (Number (pos 0)))) ∷ (Rel relation.Le (Number (pos 0)) (Var 1 sort.Int)) ∷ (Rel relation.Le (Var 1 sort.Int) (Number (pos 9))) ∷ []); locals = []; items = ((Data (Number (pos 64)) (Var 0 sort.Val) (Of2 binary.Cons (Of unary.Vi (Var 1 sort.Int)) (Of2 binary.Cons (Var 2 sort.Val) (Of2 binary.Cons (Of unary.Vi (Number (pos 7))) Nil)))) ∷ []) }) ∷ []) }) ∷ []); specs = ((record { is_void = true; name = name_f; params = (name_u0 ∷ name_s1 ∷ name_r2 ∷ []); vars = ((name_b0, sort.Int) ∷ (name_w1, sort.Val) ∷ (name_h1, sort.Int) ∷ (name_q1, sort.Val) ∷ (name_e2, sort.Val) ∷ (name_l2, sort.List) ∷ []); pre = (record { opened = []; facts = ((Rel relation.Le (Number (pos 0)) (Var 2 sort.Int)) ∷ (Rel relation.Le (Var 2 sort.Int) (Number (pos 20))) ∷ (Rel relation.Eq (Of unary.Len (Var 5 sort.List)) (Number (pos 4))) ∷ []); locals = ((name_u0, (Of unary.Vi (Var 0 sort.Int))) ∷ (name_s1, (Var 1 sort.Val)) ∷ (name_r2, (Var 4 sort.Val)) ∷ []); items = ((Pred (record { name = name_two; args = ((Var 1 sort.Val) ∷ []) })) ∷ (Data (Number (pos 64)) (Var 4 sort.Val) (Var 5 sort.List)) ∷ []) }); post = (record { opened = []; facts = ([]); locals = []; items = ([]) }) }) ∷ (record { is_void = false; name = name_main; params = ([]); vars = []; pre = (record { opened = []; facts = ([]); locals = []; items = ([]) }); post = (record { opened = []; facts = ((Rel relation.Eq (Var 0 sort.Val) (Of unary.Vi (Number (pos 0)))) ∷ []); locals = []; items = ([]) }) }) ∷ []) }) (record { is_void = true; name = name_f; params = (name_u0 ∷ name_s1 ∷ name_r2 ∷ []); vars = ((name_b0, sort.Int) ∷ (name_w1, sort.Val) ∷ (name_h1, sort.Int) ∷ (name_q1, sort.Val) ∷ (name_e2, sort.Val) ∷ (name_l2, sort.List) ∷ []); pre = (record { opened = []; facts = ((Rel relation.Le (Number (pos 0)) (Var 2 sort.Int)) ∷ (Rel relation.Le (Var 2 sort.Int) (Number (pos 20))) ∷ (Rel relation.Eq (Of unary.Len (Var 5 sort.List)) (Number (pos 4))) ∷ []); locals = ((name_u0, (Of unary.Vi (Var 0 sort.Int))) ∷ (name_s1, (Var 1 sort.Val)) ∷ (name_r2, (Var 4 sort.Val)) ∷ []); items = ((Pred (record { name = name_two; args = ((Var 1 sort.Val) ∷ []) })) ∷ (Data (Number (pos 64)) (Var 4 sort.Val) (Var 5 sort.List)) ∷ []) }); post = (record { opened = []; facts = ([]); locals = []; items = ([]) }) }) (record { temps = (name_u0 ∷ name_s1 ∷ name_r2 ∷ name_s ∷ name_t ∷ name_i ∷ name_x1 ∷ name_d0 ∷ name_p1 ∷ name_q1 ∷ []); body = (c.Then (c.Set 3 (c.Const 3)) (c.Then (c.Set 4 (c.Const 1)) (c.Then (c.Store (root.Temp 2) (c.Index kind.Signed (c.Const 3) c.Here) (c.Binary two.Add kind.Signed (c.Const 1) (c.Const 2))) (c.Then (c.Store (root.Temp 2) (c.Index kind.Signed (c.Const 3) c.Here) (c.Binary two.Mul kind.Signed (c.Temp 4) (c.Const 2))) (c.Then (c.If (c.Nonzero kind.Signed (c.Binary two.Lt kind.Signed (c.Const 2) (c.Const 5))) (c.Then (c.Set 6 (c.Binary two.Div kind.Unsigned (c.Const 4294967295) (c.Const 5))) c.End) (c.Then (c.Load 4 (root.Temp 2) (c.Index kind.Signed (c.Const 3) c.Here)) c.End)) (c.Then (c.If (c.Pointers (c.Temp 1) (c.Const 0) true) (c.Then (c.Return None) c.End) c.End) (c.Then (c.Set 3 (c.Temp 3)) (c.Then (c.Set 3 (c.Binary two.Add kind.Signed (c.Temp 3) (c.Const 2))) (c.Then (c.Return None) c.End))))))))) }) (s.Then 1 (s.Set ([]) ([])) s.NoBlock (s.Then 2 (s.Set ([]) ([])) s.NoBlock (s.Then 3 (s.Store 1 ([]) ((record { lines = ((line.Comb (((pos 1), 3) ∷ ((pos 1), 4) ∷ [])) ∷ []) }) ∷ [])) s.NoBlock (s.Then 4 (s.Law name_len_upd ((Named name_l2) ∷ (Number (pos 3)) ∷ (Of unary.Vi (Number (pos 3))) ∷ []) ([])) s.NoBlock (s.Then 5 (s.Store 1 ([]) ([])) s.NoBlock (s.Then 6 (s.Law name_len_upd ((Of3 ternary.Upd (Named name_l2) (Number (pos 3)) (Of unary.Vi (Number (pos 3)))) ∷ (Number (pos 3)) ∷ (Of unary.Vi (Number (pos 2))) ∷ []) ([])) s.NoBlock (s.Then 7 (s.If ([]) ([]) ([]) ([])) (s.WithBlock (s.Then 8 (s.Set ([]) ([])) s.NoBlock (s.Then 9 (s.If ([]) ([]) ([]) ([])) (s.WithBlock s.End (s.WithBlock s.End s.NoBlock)) s.End)) (s.WithBlock (s.Then 10 (s.Absurd ([])) s.NoBlock s.End) s.NoBlock)) s.End))))))) ≡ (RefusedAt 5 4 3)
unfolding computing
random_865 = refl

random_866 : body_verdict (record { predicates = ((record { name = name_two; args = (sort.Val ∷ []); cases = ((record { opened = []; facts = ((Rel relation.Eq (Var 0 sort.Val) (Of unary.Vi (Number (pos 0)))) ∷ []); locals = []; items = ([]) }) ∷ (record { opened = (sort.Int ∷ sort.Val ∷ []); facts = ((Rel relation.Ne (Var 0 sort.Val) (Of unary.Vi (Number (pos 0)))) ∷ (Rel relation.Le (Number (pos 0)) (Var 1 sort.Int)) ∷ (Rel relation.Le (Var 1 sort.Int) (Number (pos 9))) ∷ []); locals = []; items = ((Data (Number (pos 64)) (Var 0 sort.Val) (Of2 binary.Cons (Of unary.Vi (Var 1 sort.Int)) (Of2 binary.Cons (Var 2 sort.Val) (Of2 binary.Cons (Of unary.Vi (Number (pos 7))) Nil)))) ∷ []) }) ∷ []) }) ∷ []); specs = ((record { is_void = true; name = name_f; params = (name_u0 ∷ name_s1 ∷ name_r2 ∷ []); vars = ((name_b0, sort.Int) ∷ (name_w1, sort.Val) ∷ (name_h1, sort.Int) ∷ (name_q1, sort.Val) ∷ (name_e2, sort.Val) ∷ (name_l2, sort.List) ∷ []); pre = (record { opened = []; facts = ((Rel relation.Le (Number (pos 0)) (Var 2 sort.Int)) ∷ (Rel relation.Le (Var 2 sort.Int) (Number (pos 20))) ∷ (Rel relation.Eq (Of unary.Len (Var 5 sort.List)) (Number (pos 4))) ∷ []); locals = ((name_u0, (Of unary.Vi (Var 0 sort.Int))) ∷ (name_s1, (Var 1 sort.Val)) ∷ (name_r2, (Var 4 sort.Val)) ∷ []); items = ((Pred (record { name = name_two; args = ((Var 1 sort.Val) ∷ []) })) ∷ (Data (Number (pos 64)) (Var 4 sort.Val) (Var 5 sort.List)) ∷ []) }); post = (record { opened = []; facts = ([]); locals = []; items = ([]) }) }) ∷ (record { is_void = false; name = name_main; params = ([]); vars = []; pre = (record { opened = []; facts = ([]); locals = []; items = ([]) }); post = (record { opened = []; facts = ((Rel relation.Eq (Var 0 sort.Val) (Of unary.Vi (Number (pos 0)))) ∷ []); locals = []; items = ([]) }) }) ∷ []) }) (record { is_void = true; name = name_f; params = (name_u0 ∷ name_s1 ∷ name_r2 ∷ []); vars = ((name_b0, sort.Int) ∷ (name_w1, sort.Val) ∷ (name_h1, sort.Int) ∷ (name_q1, sort.Val) ∷ (name_e2, sort.Val) ∷ (name_l2, sort.List) ∷ []); pre = (record { opened = []; facts = ((Rel relation.Le (Number (pos 0)) (Var 2 sort.Int)) ∷ (Rel relation.Le (Var 2 sort.Int) (Number (pos 20))) ∷ (Rel relation.Eq (Of unary.Len (Var 5 sort.List)) (Number (pos 4))) ∷ []); locals = ((name_u0, (Of unary.Vi (Var 0 sort.Int))) ∷ (name_s1, (Var 1 sort.Val)) ∷ (name_r2, (Var 4 sort.Val)) ∷ []); items = ((Pred (record { name = name_two; args = ((Var 1 sort.Val) ∷ []) })) ∷ (Data (Number (pos 64)) (Var 4 sort.Val) (Var 5 sort.List)) ∷ []) }); post = (record { opened = []; facts = ([]); locals = []; items = ([]) }) }) (record { temps = (name_u0 ∷ name_s1 ∷ name_r2 ∷ name_s ∷ name_t ∷ name_i ∷ name_x1 ∷ name_d0 ∷ name_p1 ∷ name_q1 ∷ []); body = (c.Then (c.Set 3 (c.Const 3)) (c.Then (c.Set 4 (c.Const 1)) (c.Then (c.Store (root.Temp 2) (c.Index kind.Signed (c.Const 3) c.Here) (c.Binary two.Add kind.Signed (c.Const 1) (c.Const 2))) (c.Then (c.Store (root.Temp 2) (c.Index kind.Signed (c.Const 3) c.Here) (c.Binary two.Mul kind.Signed (c.Temp 4) (c.Const 2))) (c.Then (c.If (c.Nonzero kind.Signed (c.Binary two.Lt kind.Signed (c.Const 2) (c.Const 5))) (c.Then (c.Set 6 (c.Binary two.Div kind.Unsigned (c.Const 4294967295) (c.Const 5))) c.End) (c.Then (c.Load 4 (root.Temp 2) (c.Index kind.Signed (c.Const 3) c.Here)) c.End)) (c.Then (c.If (c.Pointers (c.Temp 1) (c.Const 0) true) (c.Then (c.Return None) c.End) c.End) (c.Then (c.Set 3 (c.Temp 3)) (c.Then (c.Set 3 (c.Binary two.Add kind.Signed (c.Temp 3) (c.Const 2))) (c.Then (c.Return None) c.End))))))))) }) (s.Then 1 (s.Set ([]) ([])) s.NoBlock (s.Then 2 (s.Set ([]) ([])) s.NoBlock (s.Then 3 (s.Store 1 ([]) ((record { lines = ((line.Comb (((pos 1), 3) ∷ ((pos 1), 4) ∷ [])) ∷ []) }) ∷ [])) s.NoBlock (s.Then 4 (s.Law name_len_upd ((Named name_l2) ∷ (Number (pos 3)) ∷ (Of unary.Vi (Number (pos 3))) ∷ []) ([])) s.NoBlock (s.Then 5 (s.Store 1 ([]) ((record { lines = ((line.Comb (((pos 1), 1) ∷ ((pos 1), 3) ∷ ((pos 1), 6) ∷ [])) ∷ []) }) ∷ [])) s.NoBlock (s.Then 6 (s.Law name_len_upd ((Of3 ternary.Upd (Named name_l2) (Number (pos 3)) (Of unary.Vi (Number (pos 3)))) ∷ (Number (pos 3)) ∷ (Of unary.Vi (Number (pos 2))) ∷ []) ([])) s.NoBlock (s.Then 7 (s.If ([]) ([]) ([]) ([])) (s.WithBlock (s.Then 8 (s.Set ([]) ([])) s.NoBlock (s.Then 9 (s.If ([]) ([]) ([]) ([])) (s.WithBlock s.End (s.WithBlock s.End s.NoBlock)) s.End)) (s.WithBlock (s.Then 10 (s.Absurd ([])) s.NoBlock s.End) s.NoBlock)) s.End))))))) ≡ (RefusedAt 5 4 3)
unfolding computing
random_866 = refl

random_867 : body_verdict (record { predicates = ((record { name = name_two; args = (sort.Val ∷ []); cases = ((record { opened = []; facts = ((Rel relation.Eq (Var 0 sort.Val) (Of unary.Vi (Number (pos 0)))) ∷ []); locals = []; items = ([]) }) ∷ (record { opened = (sort.Int ∷ sort.Val ∷ []); facts = ((Rel relation.Ne (Var 0 sort.Val) (Of unary.Vi (Number (pos 0)))) ∷ (Rel relation.Le (Number (pos 0)) (Var 1 sort.Int)) ∷ (Rel relation.Le (Var 1 sort.Int) (Number (pos 9))) ∷ []); locals = []; items = ((Data (Number (pos 64)) (Var 0 sort.Val) (Of2 binary.Cons (Of unary.Vi (Var 1 sort.Int)) (Of2 binary.Cons (Var 2 sort.Val) (Of2 binary.Cons (Of unary.Vi (Number (pos 7))) Nil)))) ∷ []) }) ∷ []) }) ∷ []); specs = ((record { is_void = true; name = name_f; params = (name_u0 ∷ name_s1 ∷ name_r2 ∷ []); vars = ((name_b0, sort.Int) ∷ (name_w1, sort.Val) ∷ (name_h1, sort.Int) ∷ (name_q1, sort.Val) ∷ (name_e2, sort.Val) ∷ (name_l2, sort.List) ∷ []); pre = (record { opened = []; facts = ((Rel relation.Le (Number (pos 0)) (Var 2 sort.Int)) ∷ (Rel relation.Le (Var 2 sort.Int) (Number (pos 20))) ∷ (Rel relation.Eq (Of unary.Len (Var 5 sort.List)) (Number (pos 4))) ∷ []); locals = ((name_u0, (Of unary.Vi (Var 0 sort.Int))) ∷ (name_s1, (Var 1 sort.Val)) ∷ (name_r2, (Var 4 sort.Val)) ∷ []); items = ((Pred (record { name = name_two; args = ((Var 1 sort.Val) ∷ []) })) ∷ (Data (Number (pos 64)) (Var 4 sort.Val) (Var 5 sort.List)) ∷ []) }); post = (record { opened = []; facts = ([]); locals = []; items = ([]) }) }) ∷ (record { is_void = false; name = name_main; params = ([]); vars = []; pre = (record { opened = []; facts = ([]); locals = []; items = ([]) }); post = (record { opened = []; facts = ((Rel relation.Eq (Var 0 sort.Val) (Of unary.Vi (Number (pos 0)))) ∷ []); locals = []; items = ([]) }) }) ∷ []) }) (record { is_void = true; name = name_f; params = (name_u0 ∷ name_s1 ∷ name_r2 ∷ []); vars = ((name_b0, sort.Int) ∷ (name_w1, sort.Val) ∷ (name_h1, sort.Int) ∷ (name_q1, sort.Val) ∷ (name_e2, sort.Val) ∷ (name_l2, sort.List) ∷ []); pre = (record { opened = []; facts = ((Rel relation.Le (Number (pos 0)) (Var 2 sort.Int)) ∷ (Rel relation.Le (Var 2 sort.Int) (Number (pos 20))) ∷ (Rel relation.Eq (Of unary.Len (Var 5 sort.List)) (Number (pos 4))) ∷ []); locals = ((name_u0, (Of unary.Vi (Var 0 sort.Int))) ∷ (name_s1, (Var 1 sort.Val)) ∷ (name_r2, (Var 4 sort.Val)) ∷ []); items = ((Pred (record { name = name_two; args = ((Var 1 sort.Val) ∷ []) })) ∷ (Data (Number (pos 64)) (Var 4 sort.Val) (Var 5 sort.List)) ∷ []) }); post = (record { opened = []; facts = ([]); locals = []; items = ([]) }) }) (record { temps = (name_u0 ∷ name_s1 ∷ name_r2 ∷ name_s ∷ name_t ∷ name_i ∷ name_x1 ∷ name_d0 ∷ name_p1 ∷ name_q1 ∷ []); body = (c.Then (c.Set 3 (c.Const 3)) (c.Then (c.Set 4 (c.Const 1)) (c.Then (c.Store (root.Temp 2) (c.Index kind.Signed (c.Const 3) c.Here) (c.Binary two.Add kind.Signed (c.Const 1) (c.Const 2))) (c.Then (c.Store (root.Temp 2) (c.Index kind.Signed (c.Const 3) c.Here) (c.Binary two.Mul kind.Signed (c.Temp 4) (c.Const 2))) (c.Then (c.If (c.Nonzero kind.Signed (c.Binary two.Lt kind.Signed (c.Const 2) (c.Const 5))) (c.Then (c.Set 6 (c.Binary two.Div kind.Unsigned (c.Const 4) (c.Const 5))) c.End) (c.Then (c.Load 4 (root.Temp 2) (c.Index kind.Signed (c.Const 3) c.Here)) c.End)) (c.Then (c.If (c.Pointers (c.Temp 1) (c.Const 0) true) (c.Then (c.Return None) c.End) c.End) (c.Then (c.Set 3 (c.Temp 3)) (c.Then (c.Set 3 (c.Binary two.Add kind.Signed (c.Temp 3) (c.Const 2))) (c.Then (c.Return None) c.End))))))))) }) (s.Then 1 (s.Set ([]) ([])) s.NoBlock (s.Then 2 (s.Set ([]) ([])) s.NoBlock (s.Then 3 (s.Set ([]) ([])) s.NoBlock (s.Then 4 (s.Store 1 ([]) ((record { lines = ((line.Comb (((pos 1), 3) ∷ ((pos 1), 4) ∷ [])) ∷ []) }) ∷ [])) s.NoBlock (s.Then 5 (s.Law name_len_upd ((Named name_l2) ∷ (Number (pos 3)) ∷ (Of unary.Vi (Number (pos 3))) ∷ []) ([])) s.NoBlock (s.Then 6 (s.Store 1 ([]) ((record { lines = ((line.Comb (((pos 1), 5) ∷ ((pos 1), 3) ∷ ((pos 1), 6) ∷ [])) ∷ []) }) ∷ [])) s.NoBlock (s.Then 7 (s.Law name_len_upd ((Of3 ternary.Upd (Named name_l2) (Number (pos 3)) (Of unary.Vi (Number (pos 3)))) ∷ (Number (pos 3)) ∷ (Of unary.Vi (Number (pos 2))) ∷ []) ([])) s.NoBlock (s.Then 8 (s.If ([]) ([]) ([]) ([])) (s.WithBlock (s.Then 9 (s.Set ([]) ([])) s.NoBlock (s.Then 10 (s.If ([]) ([]) ([]) ([])) (s.WithBlock s.End (s.WithBlock s.End s.NoBlock)) s.End)) (s.WithBlock (s.Then 11 (s.Absurd ([])) s.NoBlock s.End) s.NoBlock)) s.End)))))))) ≡ (RefusedAt 3 2 1)
unfolding computing
random_867 = refl

random_868 : body_verdict (record { predicates = ((record { name = name_two; args = (sort.Val ∷ []); cases = ((record { opened = []; facts = ((Rel relation.Eq (Var 0 sort.Val) (Of unary.Vi (Number (pos 0)))) ∷ []); locals = []; items = ([]) }) ∷ (record { opened = (sort.Int ∷ sort.Val ∷ []); facts = ((Rel relation.Ne (Var 0 sort.Val) (Of unary.Vi (Number (pos 0)))) ∷ (Rel relation.Le (Number (pos 0)) (Var 1 sort.Int)) ∷ (Rel relation.Le (Var 1 sort.Int) (Number (pos 9))) ∷ []); locals = []; items = ((Data (Number (pos 64)) (Var 0 sort.Val) (Of2 binary.Cons (Of unary.Vi (Var 1 sort.Int)) (Of2 binary.Cons (Var 2 sort.Val) (Of2 binary.Cons (Of unary.Vi (Number (pos 7))) Nil)))) ∷ []) }) ∷ []) }) ∷ []); specs = ((record { is_void = true; name = name_f; params = (name_u0 ∷ name_s1 ∷ name_r2 ∷ []); vars = ((name_b0, sort.Int) ∷ (name_w1, sort.Val) ∷ (name_h1, sort.Int) ∷ (name_q1, sort.Val) ∷ (name_e2, sort.Val) ∷ (name_l2, sort.List) ∷ []); pre = (record { opened = []; facts = ((Rel relation.Le (Number (pos 0)) (Var 2 sort.Int)) ∷ (Rel relation.Le (Var 2 sort.Int) (Number (pos 20))) ∷ (Rel relation.Eq (Of unary.Len (Var 5 sort.List)) (Number (pos 3))) ∷ []); locals = ((name_u0, (Of unary.Vi (Var 0 sort.Int))) ∷ (name_s1, (Var 1 sort.Val)) ∷ (name_r2, (Var 4 sort.Val)) ∷ []); items = ((Pred (record { name = name_two; args = ((Var 1 sort.Val) ∷ []) })) ∷ (Data (Number (pos 64)) (Var 4 sort.Val) (Var 5 sort.List)) ∷ []) }); post = (record { opened = []; facts = ([]); locals = []; items = ([]) }) }) ∷ (record { is_void = false; name = name_main; params = ([]); vars = []; pre = (record { opened = []; facts = ([]); locals = []; items = ([]) }); post = (record { opened = []; facts = ((Rel relation.Eq (Var 0 sort.Val) (Of unary.Vi (Number (pos 0)))) ∷ []); locals = []; items = ([]) }) }) ∷ []) }) (record { is_void = true; name = name_f; params = (name_u0 ∷ name_s1 ∷ name_r2 ∷ []); vars = ((name_b0, sort.Int) ∷ (name_w1, sort.Val) ∷ (name_h1, sort.Int) ∷ (name_q1, sort.Val) ∷ (name_e2, sort.Val) ∷ (name_l2, sort.List) ∷ []); pre = (record { opened = []; facts = ((Rel relation.Le (Number (pos 0)) (Var 2 sort.Int)) ∷ (Rel relation.Le (Var 2 sort.Int) (Number (pos 20))) ∷ (Rel relation.Eq (Of unary.Len (Var 5 sort.List)) (Number (pos 3))) ∷ []); locals = ((name_u0, (Of unary.Vi (Var 0 sort.Int))) ∷ (name_s1, (Var 1 sort.Val)) ∷ (name_r2, (Var 4 sort.Val)) ∷ []); items = ((Pred (record { name = name_two; args = ((Var 1 sort.Val) ∷ []) })) ∷ (Data (Number (pos 64)) (Var 4 sort.Val) (Var 5 sort.List)) ∷ []) }); post = (record { opened = []; facts = ([]); locals = []; items = ([]) }) }) (record { temps = (name_u0 ∷ name_s1 ∷ name_r2 ∷ name_s ∷ name_t ∷ name_i ∷ name_x1 ∷ name_d0 ∷ name_p1 ∷ name_q1 ∷ []); body = (c.Then (c.Set 3 (c.Const 3)) (c.Then (c.Set 4 (c.Const 1)) (c.Then (c.Store (root.Temp 2) (c.Index kind.Signed (c.Const 3) c.Here) (c.Binary two.Add kind.Signed (c.Const 1) (c.Const 2))) (c.Then (c.Store (root.Temp 2) (c.Index kind.Signed (c.Const 3) c.Here) (c.Binary two.Mul kind.Signed (c.Temp 4) (c.Const 2))) (c.Then (c.If (c.Nonzero kind.Signed (c.Binary two.Lt kind.Signed (c.Const 2) (c.Const 5))) (c.Then (c.Set 6 (c.Binary two.Div kind.Unsigned (c.Const 4294967295) (c.Const 5))) c.End) (c.Then (c.Load 4 (root.Temp 2) (c.Index kind.Signed (c.Const 3) c.Here)) c.End)) (c.Then (c.If (c.Pointers (c.Temp 1) (c.Const 0) true) (c.Then (c.Return None) c.End) c.End) (c.Then (c.Set 3 (c.Temp 3)) (c.Then (c.Set 3 (c.Binary two.Add kind.Signed (c.Temp 3) (c.Const 2))) (c.Then (c.Return None) c.End))))))))) }) (s.Then 1 (s.Set ([]) ([])) s.NoBlock (s.Then 2 (s.Set ([]) ([])) s.NoBlock (s.Then 3 (s.Store 1 ([]) ((record { lines = ((line.Comb (((pos 1), 3) ∷ ((pos 1), 4) ∷ [])) ∷ []) }) ∷ [])) s.NoBlock (s.Then 4 (s.Law name_len_upd ((Named name_l2) ∷ (Number (pos 3)) ∷ (Of unary.Vi (Number (pos 3))) ∷ []) ([])) s.NoBlock (s.Then 5 (s.Store 1 ([]) ((record { lines = ((line.Comb (((pos 1), 5) ∷ ((pos 1), 3) ∷ ((pos 1), 6) ∷ [])) ∷ []) }) ∷ [])) s.NoBlock (s.Then 6 (s.Law name_len_upd ((Of3 ternary.Upd (Named name_l2) (Number (pos 3)) (Of unary.Vi (Number (pos 3)))) ∷ (Number (pos 3)) ∷ (Of unary.Vi (Number (pos 2))) ∷ []) ([])) s.NoBlock (s.Then 7 (s.If ([]) ([]) ([]) ([])) (s.WithBlock (s.Then 8 (s.Set ([]) ([])) s.NoBlock (s.Then 9 (s.If ([]) ([]) ([]) ([])) (s.WithBlock s.End (s.WithBlock s.End s.NoBlock)) s.End)) (s.WithBlock (s.Then 10 (s.Absurd ([])) s.NoBlock s.End) s.NoBlock)) s.End))))))) ≡ (RefusedAt 3 4 3)
unfolding computing
random_868 = refl

random_869 : body_verdict (record { predicates = ((record { name = name_two; args = (sort.Val ∷ []); cases = ((record { opened = []; facts = ((Rel relation.Eq (Var 0 sort.Val) (Of unary.Vi (Number (pos 0)))) ∷ []); locals = []; items = ([]) }) ∷ (record { opened = (sort.Int ∷ sort.Val ∷ []); facts = ((Rel relation.Ne (Var 0 sort.Val) (Of unary.Vi (Number (pos 0)))) ∷ (Rel relation.Le (Number (pos 0)) (Var 1 sort.Int)) ∷ (Rel relation.Le (Var 1 sort.Int) (Number (pos 9))) ∷ []); locals = []; items = ((Data (Number (pos 64)) (Var 0 sort.Val) (Of2 binary.Cons (Of unary.Vi (Var 1 sort.Int)) (Of2 binary.Cons (Var 2 sort.Val) (Of2 binary.Cons (Of unary.Vi (Number (pos 7))) Nil)))) ∷ []) }) ∷ []) }) ∷ []); specs = ((record { is_void = true; name = name_f; params = (name_u0 ∷ name_s1 ∷ name_r2 ∷ []); vars = ((name_b0, sort.Int) ∷ (name_w1, sort.Val) ∷ (name_h1, sort.Int) ∷ (name_q1, sort.Val) ∷ (name_e2, sort.Val) ∷ (name_l2, sort.List) ∷ []); pre = (record { opened = []; facts = ((Rel relation.Le (Number (pos 0)) (Var 2 sort.Int)) ∷ (Rel relation.Le (Var 2 sort.Int) (Number (pos 20))) ∷ (Rel relation.Eq (Of unary.Len (Var 5 sort.List)) (Number (pos 3))) ∷ []); locals = ((name_u0, (Of unary.Vi (Var 0 sort.Int))) ∷ (name_s1, (Var 1 sort.Val)) ∷ (name_r2, (Var 4 sort.Val)) ∷ []); items = ((Pred (record { name = name_two; args = ((Var 1 sort.Val) ∷ []) })) ∷ (Data (Number (pos 64)) (Var 4 sort.Val) (Var 5 sort.List)) ∷ []) }); post = (record { opened = []; facts = ([]); locals = []; items = ([]) }) }) ∷ (record { is_void = false; name = name_main; params = ([]); vars = []; pre = (record { opened = []; facts = ([]); locals = []; items = ([]) }); post = (record { opened = []; facts = ((Rel relation.Eq (Var 0 sort.Val) (Of unary.Vi (Number (pos 0)))) ∷ []); locals = []; items = ([]) }) }) ∷ []) }) (record { is_void = false; name = name_main; params = ([]); vars = []; pre = (record { opened = []; facts = ([]); locals = []; items = ([]) }); post = (record { opened = []; facts = ((Rel relation.Eq (Var 0 sort.Val) (Of unary.Vi (Number (pos 0)))) ∷ []); locals = []; items = ([]) }) }) (record { temps = ([]); body = (c.Then (c.Return (Some (c.Const 0))) c.End) }) (s.Then 1 (s.Return ([]) ([]) ([])) s.NoBlock s.End) ≡ Accepted
unfolding computing
random_869 = refl

random_870 : body_verdict (record { predicates = ((record { name = name_two; args = (sort.Val ∷ []); cases = ((record { opened = []; facts = ((Rel relation.Eq (Var 0 sort.Val) (Of unary.Vi (Number (pos 0)))) ∷ []); locals = []; items = ([]) }) ∷ (record { opened = (sort.Int ∷ sort.Val ∷ []); facts = ((Rel relation.Ne (Var 0 sort.Val) (Of unary.Vi (Number (pos 0)))) ∷ (Rel relation.Le (Number (pos 0)) (Var 1 sort.Int)) ∷ (Rel relation.Le (Var 1 sort.Int) (Number (pos 9))) ∷ []); locals = []; items = ((Data (Number (pos 64)) (Var 0 sort.Val) (Of2 binary.Cons (Of unary.Vi (Var 1 sort.Int)) (Of2 binary.Cons (Var 2 sort.Val) (Of2 binary.Cons (Of unary.Vi (Number (pos 7))) Nil)))) ∷ []) }) ∷ []) }) ∷ []); specs = ((record { is_void = true; name = name_f; params = (name_u0 ∷ name_s1 ∷ name_r2 ∷ []); vars = ((name_b0, sort.Int) ∷ (name_w1, sort.Val) ∷ (name_h1, sort.Int) ∷ (name_q1, sort.Val) ∷ (name_e2, sort.Val) ∷ (name_l2, sort.List) ∷ []); pre = (record { opened = []; facts = ((Rel relation.Le (Number (pos 0)) (Var 2 sort.Int)) ∷ (Rel relation.Le (Var 2 sort.Int) (Number (pos 20))) ∷ (Rel relation.Eq (Of unary.Len (Var 5 sort.List)) (Number (pos 4))) ∷ []); locals = ((name_u0, (Of unary.Vi (Var 0 sort.Int))) ∷ (name_s1, (Var 1 sort.Val)) ∷ (name_r2, (Var 4 sort.Val)) ∷ []); items = ((Pred (record { name = name_two; args = ((Var 1 sort.Val) ∷ []) })) ∷ (Data (Number (pos 64)) (Var 4 sort.Val) (Var 5 sort.List)) ∷ []) }); post = (record { opened = []; facts = ([]); locals = []; items = ([]) }) }) ∷ (record { is_void = false; name = name_main; params = ([]); vars = []; pre = (record { opened = []; facts = ([]); locals = []; items = ([]) }); post = (record { opened = []; facts = ((Rel relation.Eq (Var 0 sort.Val) (Of unary.Vi (Number (pos 0)))) ∷ []); locals = []; items = ([]) }) }) ∷ []) }) (record { is_void = true; name = name_f; params = (name_u0 ∷ name_s1 ∷ name_r2 ∷ []); vars = ((name_b0, sort.Int) ∷ (name_w1, sort.Val) ∷ (name_h1, sort.Int) ∷ (name_q1, sort.Val) ∷ (name_e2, sort.Val) ∷ (name_l2, sort.List) ∷ []); pre = (record { opened = []; facts = ((Rel relation.Le (Number (pos 0)) (Var 2 sort.Int)) ∷ (Rel relation.Le (Var 2 sort.Int) (Number (pos 20))) ∷ (Rel relation.Eq (Of unary.Len (Var 5 sort.List)) (Number (pos 4))) ∷ []); locals = ((name_u0, (Of unary.Vi (Var 0 sort.Int))) ∷ (name_s1, (Var 1 sort.Val)) ∷ (name_r2, (Var 4 sort.Val)) ∷ []); items = ((Pred (record { name = name_two; args = ((Var 1 sort.Val) ∷ []) })) ∷ (Data (Number (pos 64)) (Var 4 sort.Val) (Var 5 sort.List)) ∷ []) }); post = (record { opened = []; facts = ([]); locals = []; items = ([]) }) }) (record { temps = (name_u0 ∷ name_s1 ∷ name_r2 ∷ name_s ∷ name_t ∷ name_i ∷ name_x1 ∷ name_d0 ∷ name_p1 ∷ name_q1 ∷ []); body = (c.Then (c.Set 3 (c.Const 3)) (c.Then (c.Set 4 (c.Const 1)) (c.Then (c.Store (root.Temp 2) (c.Index kind.Signed (c.Const 3) c.Here) (c.Binary two.Add kind.Signed (c.Const 1) (c.Const 2))) (c.Then (c.Store (root.Temp 2) (c.Index kind.Signed (c.Const 3) c.Here) (c.Binary two.Mul kind.Signed (c.Temp 4) (c.Const 2))) (c.Then (c.If (c.Nonzero kind.Signed (c.Binary two.Lt kind.Signed (c.Const 2) (c.Const 5))) (c.Then (c.Set 6 (c.Binary two.Div kind.Unsigned (c.Const 4294967295) (c.Const 5))) c.End) (c.Then (c.Load 4 (root.Temp 2) (c.Index kind.Signed (c.Const 3) c.Here)) c.End)) (c.Then (c.If (c.Pointers (c.Temp 1) (c.Const 0) true) (c.Then (c.Return None) c.End) c.End) (c.Then (c.Set 3 (c.Temp 3)) (c.Then (c.Set 3 (c.Binary two.Add kind.Signed (c.Temp 3) (c.Const 2))) (c.Then (c.Return None) c.End))))))))) }) (s.Then 1 (s.Set ([]) ([])) s.NoBlock (s.Then 2 (s.Set ([]) ([])) s.NoBlock (s.Then 3 (s.Store 1 ([]) ((record { lines = ((line.Comb (((pos 1), 3) ∷ ((pos 1), 4) ∷ [])) ∷ []) }) ∷ [])) s.NoBlock (s.Then 4 (s.Store 1 ([]) ((record { lines = ((line.Comb (((pos 1), 5) ∷ ((pos 1), 3) ∷ ((pos 1), 6) ∷ [])) ∷ []) }) ∷ [])) s.NoBlock (s.Then 5 (s.Law name_len_upd ((Of3 ternary.Upd (Named name_l2) (Number (pos 3)) (Of unary.Vi (Number (pos 3)))) ∷ (Number (pos 3)) ∷ (Of unary.Vi (Number (pos 2))) ∷ []) ([])) s.NoBlock (s.Then 6 (s.If ([]) ([]) ([]) ([])) (s.WithBlock (s.Then 7 (s.Set ([]) ([])) s.NoBlock (s.Then 8 (s.If ([]) ([]) ([]) ([])) (s.WithBlock s.End (s.WithBlock s.End s.NoBlock)) s.End)) (s.WithBlock (s.Then 9 (s.Absurd ([])) s.NoBlock s.End) s.NoBlock)) s.End)))))) ≡ (RefusedAt 4 4 3)
unfolding computing
random_870 = refl

random_871 : body_verdict (record { predicates = ((record { name = name_two; args = (sort.Val ∷ []); cases = ((record { opened = []; facts = ((Rel relation.Eq (Var 0 sort.Val) (Of unary.Vi (Number (pos 0)))) ∷ []); locals = []; items = ([]) }) ∷ (record { opened = (sort.Int ∷ sort.Val ∷ []); facts = ((Rel relation.Ne (Var 0 sort.Val) (Of unary.Vi (Number (pos 0)))) ∷ (Rel relation.Le (Number (pos 0)) (Var 1 sort.Int)) ∷ (Rel relation.Le (Var 1 sort.Int) (Number (pos 9))) ∷ []); locals = []; items = ((Data (Number (pos 64)) (Var 0 sort.Val) (Of2 binary.Cons (Of unary.Vi (Var 1 sort.Int)) (Of2 binary.Cons (Var 2 sort.Val) (Of2 binary.Cons (Of unary.Vi (Number (pos 7))) Nil)))) ∷ []) }) ∷ []) }) ∷ []); specs = ((record { is_void = true; name = name_f; params = (name_u0 ∷ name_s1 ∷ name_r2 ∷ []); vars = ((name_b0, sort.Int) ∷ (name_w1, sort.Val) ∷ (name_h1, sort.Int) ∷ (name_q1, sort.Val) ∷ (name_e2, sort.Val) ∷ (name_l2, sort.List) ∷ []); pre = (record { opened = []; facts = ((Rel relation.Le (Number (pos 0)) (Var 2 sort.Int)) ∷ (Rel relation.Le (Var 2 sort.Int) (Number (pos 20))) ∷ (Rel relation.Eq (Of unary.Len (Var 5 sort.List)) (Number (pos 4))) ∷ []); locals = ((name_u0, (Of unary.Vi (Var 0 sort.Int))) ∷ (name_s1, (Var 1 sort.Val)) ∷ (name_r2, (Var 4 sort.Val)) ∷ []); items = ((Pred (record { name = name_two; args = ((Var 1 sort.Val) ∷ []) })) ∷ (Data (Number (pos 64)) (Var 4 sort.Val) (Var 5 sort.List)) ∷ []) }); post = (record { opened = []; facts = ([]); locals = []; items = ([]) }) }) ∷ (record { is_void = false; name = name_main; params = ([]); vars = []; pre = (record { opened = []; facts = ([]); locals = []; items = ([]) }); post = (record { opened = []; facts = ((Rel relation.Eq (Var 0 sort.Val) (Of unary.Vi (Number (pos 0)))) ∷ []); locals = []; items = ([]) }) }) ∷ []) }) (record { is_void = true; name = name_f; params = (name_u0 ∷ name_s1 ∷ name_r2 ∷ []); vars = ((name_b0, sort.Int) ∷ (name_w1, sort.Val) ∷ (name_h1, sort.Int) ∷ (name_q1, sort.Val) ∷ (name_e2, sort.Val) ∷ (name_l2, sort.List) ∷ []); pre = (record { opened = []; facts = ((Rel relation.Le (Number (pos 0)) (Var 2 sort.Int)) ∷ (Rel relation.Le (Var 2 sort.Int) (Number (pos 20))) ∷ (Rel relation.Eq (Of unary.Len (Var 5 sort.List)) (Number (pos 4))) ∷ []); locals = ((name_u0, (Of unary.Vi (Var 0 sort.Int))) ∷ (name_s1, (Var 1 sort.Val)) ∷ (name_r2, (Var 4 sort.Val)) ∷ []); items = ((Pred (record { name = name_two; args = ((Var 1 sort.Val) ∷ []) })) ∷ (Data (Number (pos 64)) (Var 4 sort.Val) (Var 5 sort.List)) ∷ []) }); post = (record { opened = []; facts = ([]); locals = []; items = ([]) }) }) (record { temps = (name_u0 ∷ name_s1 ∷ name_r2 ∷ name_s ∷ name_t ∷ name_i ∷ name_x1 ∷ name_d0 ∷ name_p1 ∷ name_q1 ∷ []); body = (c.Then (c.Set 3 (c.Const 3)) (c.Then (c.Set 4 (c.Const 1)) (c.Then (c.Store (root.Temp 2) (c.Index kind.Signed (c.Const 3) c.Here) (c.Binary two.Add kind.Signed (c.Const 1) (c.Const 2))) (c.Then (c.Store (root.Temp 2) (c.Index kind.Signed (c.Const 3) c.Here) (c.Binary two.Mul kind.Signed (c.Temp 4) (c.Const 2))) (c.Then (c.If (c.Nonzero kind.Signed (c.Binary two.Lt kind.Signed (c.Const 2) (c.Const 5))) (c.Then (c.Set 6 (c.Binary two.Div kind.Unsigned (c.Const 4294967295) (c.Const 5))) c.End) (c.Then (c.Load 4 (root.Temp 2) (c.Index kind.Signed (c.Const 3) c.Here)) c.End)) (c.Then (c.If (c.Pointers (c.Temp 1) (c.Const 0) true) (c.Then (c.Return None) c.End) c.End) (c.Then (c.Set 3 (c.Temp 3)) (c.Then (c.Set 3 (c.Binary two.Add kind.Signed (c.Temp 3) (c.Const 2))) (c.Then (c.Return None) c.End))))))))) }) (s.Then 1 (s.Set ([]) ([])) s.NoBlock (s.Then 2 (s.Set ([]) ([])) s.NoBlock (s.Then 3 (s.Store 1 ([]) ((record { lines = ((line.Comb (((pos 1), 3) ∷ ((pos 1), 4) ∷ [])) ∷ []) }) ∷ [])) s.NoBlock (s.Then 4 (s.Law name_len_upd ((Named name_l2) ∷ (Number (pos 3)) ∷ (Of unary.Vi (Number (pos 3))) ∷ []) ([])) s.NoBlock (s.Then 5 (s.Store 1 ([]) ((record { lines = ((line.Comb (((pos 1), 5) ∷ ((pos 1), 3) ∷ ((pos 1), 6) ∷ [])) ∷ []) }) ∷ [])) s.NoBlock (s.Then 6 (s.Law name_len_upd ((Of3 ternary.Upd (Named name_l2) (Number (pos 3)) (Of unary.Vi (Number (pos 3)))) ∷ (Number (pos 4)) ∷ (Of unary.Vi (Number (pos 2))) ∷ []) ([])) s.NoBlock (s.Then 7 (s.If ([]) ([]) ([]) ([])) (s.WithBlock (s.Then 8 (s.Set ([]) ([])) s.NoBlock (s.Then 9 (s.If ([]) ([]) ([]) ([])) (s.WithBlock s.End (s.WithBlock s.End s.NoBlock)) s.End)) (s.WithBlock (s.Then 10 (s.Absurd ([])) s.NoBlock s.End) s.NoBlock)) s.End))))))) ≡ (RefusedAt 9 5 2)
unfolding computing
random_871 = refl

random_872 : body_verdict (record { predicates = ((record { name = name_two; args = (sort.Val ∷ []); cases = ((record { opened = []; facts = ((Rel relation.Eq (Var 0 sort.Val) (Of unary.Vi (Number (pos 0)))) ∷ []); locals = []; items = ([]) }) ∷ (record { opened = (sort.Int ∷ sort.Val ∷ []); facts = ((Rel relation.Ne (Var 0 sort.Val) (Of unary.Vi (Number (pos 0)))) ∷ (Rel relation.Le (Number (pos 0)) (Var 1 sort.Int)) ∷ (Rel relation.Le (Var 1 sort.Int) (Number (pos 9))) ∷ []); locals = []; items = ((Data (Number (pos 64)) (Var 0 sort.Val) (Of2 binary.Cons (Of unary.Vi (Var 1 sort.Int)) (Of2 binary.Cons (Var 2 sort.Val) (Of2 binary.Cons (Of unary.Vi (Number (pos 7))) Nil)))) ∷ []) }) ∷ []) }) ∷ []); specs = ((record { is_void = true; name = name_f; params = (name_u0 ∷ name_s1 ∷ name_r2 ∷ []); vars = ((name_b0, sort.Int) ∷ (name_w1, sort.Val) ∷ (name_h1, sort.Int) ∷ (name_q1, sort.Val) ∷ (name_e2, sort.Val) ∷ (name_l2, sort.List) ∷ []); pre = (record { opened = []; facts = ((Rel relation.Le (Number (pos 0)) (Var 2 sort.Int)) ∷ (Rel relation.Le (Var 2 sort.Int) (Number (pos 20))) ∷ (Rel relation.Eq (Of unary.Len (Var 5 sort.List)) (Number (pos 4))) ∷ []); locals = ((name_u0, (Of unary.Vi (Var 0 sort.Int))) ∷ (name_s1, (Var 1 sort.Val)) ∷ (name_r2, (Var 4 sort.Val)) ∷ []); items = ((Pred (record { name = name_two; args = ((Var 1 sort.Val) ∷ []) })) ∷ (Data (Number (pos 64)) (Var 4 sort.Val) (Var 5 sort.List)) ∷ []) }); post = (record { opened = []; facts = ([]); locals = []; items = ([]) }) }) ∷ (record { is_void = false; name = name_main; params = ([]); vars = []; pre = (record { opened = []; facts = ([]); locals = []; items = ([]) }); post = (record { opened = []; facts = ((Rel relation.Eq (Var 0 sort.Val) (Of unary.Vi (Number (pos 0)))) ∷ []); locals = []; items = ([]) }) }) ∷ []) }) (record { is_void = true; name = name_f; params = (name_u0 ∷ name_s1 ∷ name_r2 ∷ []); vars = ((name_b0, sort.Int) ∷ (name_w1, sort.Val) ∷ (name_h1, sort.Int) ∷ (name_q1, sort.Val) ∷ (name_e2, sort.Val) ∷ (name_l2, sort.List) ∷ []); pre = (record { opened = []; facts = ((Rel relation.Le (Number (pos 0)) (Var 2 sort.Int)) ∷ (Rel relation.Le (Var 2 sort.Int) (Number (pos 20))) ∷ (Rel relation.Eq (Of unary.Len (Var 5 sort.List)) (Number (pos 4))) ∷ []); locals = ((name_u0, (Of unary.Vi (Var 0 sort.Int))) ∷ (name_s1, (Var 1 sort.Val)) ∷ (name_r2, (Var 4 sort.Val)) ∷ []); items = ((Pred (record { name = name_two; args = ((Var 1 sort.Val) ∷ []) })) ∷ (Data (Number (pos 64)) (Var 4 sort.Val) (Var 5 sort.List)) ∷ []) }); post = (record { opened = []; facts = ([]); locals = []; items = ([]) }) }) (record { temps = (name_u0 ∷ name_s1 ∷ name_r2 ∷ name_s ∷ name_t ∷ name_i ∷ name_x1 ∷ name_d0 ∷ name_p1 ∷ name_q1 ∷ []); body = (c.Then (c.Set 3 (c.Const 3)) (c.Then (c.Set 4 (c.Const 1)) (c.Then (c.Store (root.Temp 2) (c.Index kind.Signed (c.Const 3) c.Here) (c.Binary two.Add kind.Signed (c.Const 1) (c.Const 2))) (c.Then (c.Store (root.Temp 2) (c.Index kind.Signed (c.Const 3) c.Here) (c.Binary two.Mul kind.Signed (c.Temp 4) (c.Const 2))) (c.Then (c.If (c.Nonzero kind.Signed (c.Binary two.Lt kind.Signed (c.Const 2) (c.Const 5))) (c.Then (c.Set 6 (c.Binary two.Div kind.Unsigned (c.Const 4294967295) (c.Const 5))) c.End) (c.Then (c.Load 4 (root.Temp 2) (c.Index kind.Signed (c.Const 3) c.Here)) c.End)) (c.Then (c.If (c.Pointers (c.Temp 1) (c.Const 0) true) (c.Then (c.Return None) c.End) c.End) (c.Then (c.Set 3 (c.Temp 3)) (c.Then (c.Set 3 (c.Binary two.Add kind.Signed (c.Temp 3) (c.Const 2))) (c.Then (c.Return None) c.End))))))))) }) (s.Then 1 (s.Set ([]) ([])) s.NoBlock (s.Then 2 (s.Set ([]) ([])) s.NoBlock (s.Then 3 (s.Store 1 ([]) ((record { lines = ((line.Comb (((pos 1), 3) ∷ ((pos 1), 4) ∷ [])) ∷ []) }) ∷ [])) s.NoBlock (s.Then 4 (s.Law name_l2 ((Named name_l2) ∷ (Number (pos 3)) ∷ (Of unary.Vi (Number (pos 3))) ∷ []) ([])) s.NoBlock (s.Then 5 (s.Store 1 ([]) ((record { lines = ((line.Comb (((pos 1), 5) ∷ ((pos 1), 3) ∷ ((pos 1), 6) ∷ [])) ∷ []) }) ∷ [])) s.NoBlock (s.Then 6 (s.Law name_len_upd ((Of3 ternary.Upd (Named name_l2) (Number (pos 3)) (Of unary.Vi (Number (pos 3)))) ∷ (Number (pos 3)) ∷ (Of unary.Vi (Number (pos 2))) ∷ []) ([])) s.NoBlock (s.Then 7 (s.If ([]) ([]) ([]) ([])) (s.WithBlock (s.Then 8 (s.If ([]) ([]) ([]) ([])) (s.WithBlock (s.Then 9 (s.Set ([]) ([])) s.NoBlock s.End) (s.WithBlock s.End s.NoBlock)) s.End) (s.WithBlock (s.Then 10 (s.Absurd ([])) s.NoBlock s.End) s.NoBlock)) s.End))))))) ≡ (RefusedAt 4 26 1)
unfolding computing
random_872 = refl

random_873 : body_verdict (record { predicates = ((record { name = name_E; args = ([]); cases = ((record { opened = []; facts = ([]); locals = []; items = ([]) }) ∷ []) }) ∷ []); specs = ((record { is_void = false; name = name_pos; params = (name_n ∷ []); vars = ((name_a, sort.Int) ∷ []); pre = (record { opened = []; facts = ((Rel relation.Le (Number (pos 0)) (Var 0 sort.Int)) ∷ (Rel relation.Le (Var 0 sort.Int) (Number (pos 100))) ∷ []); locals = ((name_n, (Of unary.Vi (Var 0 sort.Int))) ∷ []); items = ([]) }); post = (record { opened = (sort.Int ∷ []); facts = ((Rel relation.Eq (Var 1 sort.Val) (Of unary.Vi (Var 2 sort.Int))) ∷ (Rel relation.Le (Number (pos 0)) (Var 2 sort.Int)) ∷ (Rel relation.Le (Var 2 sort.Int) (Var 0 sort.Int)) ∷ []); locals = []; items = ([]) }) }) ∷ (record { is_void = false; name = name_main; params = ([]); vars = []; pre = (record { opened = []; facts = ([]); locals = []; items = ((Data (Number (pos 64)) (Global name_arr) (Of2 binary.Cons (Of unary.Vi (Number (pos 1))) (Of2 binary.Cons (Of unary.Vi (Number (pos 2))) (Of2 binary.Cons (Of unary.Vi (Number (pos 0))) (Of2 binary.Cons (Of unary.Vi (Number (pos 0))) Nil))))) ∷ []) }); post = (record { opened = []; facts = ([]); locals = []; items = ([]) }) }) ∷ []) }) (record { is_void = false; name = name_main; params = ([]); vars = []; pre = (record { opened = []; facts = ([]); locals = []; items = ((Data (Number (pos 64)) (Global name_arr) (Of2 binary.Cons (Of unary.Vi (Number (pos 1))) (Of2 binary.Cons (Of unary.Vi (Number (pos 2))) (Of2 binary.Cons (Of unary.Vi (Number (pos 0))) (Of2 binary.Cons (Of unary.Vi (Number (pos 0))) Nil))))) ∷ []) }); post = (record { opened = []; facts = ([]); locals = []; items = ([]) }) }) (record { temps = (name_s ∷ name_t ∷ name_i ∷ name_x1 ∷ name_d0 ∷ name_p1 ∷ name_q1 ∷ []); body = (c.Then (c.Set 0 (c.Const 1)) (c.Then (c.Set 1 (c.Const 3)) (c.Then (c.Store (root.Global name_arr 4) (c.Index kind.Signed (c.Const 3) c.Here) (c.Temp 1)) (c.Then (c.Load 1 (root.Global name_arr 4) (c.Index kind.Signed (c.Const 3) c.Here)) (c.Then (c.Set 0 (c.Binary two.Mul kind.Signed (c.Const 1) (c.Const 1))) (c.Then (c.Call (Some 1) name_pos ((c.Const 2) ∷ [])) (c.Then (c.Set 4 (c.Const 1)) (c.Then (c.Set 1 (c.Binary two.Add kind.Signed (c.Binary two.Add kind.Signed (c.Const 3) (c.Temp 1)) (c.Const 2))) (c.Then (c.Return (Some (c.Temp 0))) c.End))))))))) }) (s.Then 1 (s.Block 2 (record { opened = []; facts = ([]); locals = ((name_s, (Of unary.Vi (Number (pos 1)))) ∷ (name_t, (Of unary.Vi (Number (pos 3)))) ∷ []); items = ((Data (Number (pos 64)) (Global name_arr) (Of2 binary.Cons (Of unary.Vi (Number (pos 1))) (Of2 binary.Cons (Of unary.Vi (Number (pos 2))) (Of2 binary.Cons (Of unary.Vi (Number (pos 0))) (Of2 binary.Cons (Of unary.Vi (Number (pos 0))) Nil))))) ∷ []) }) ([]) ([])) (s.WithBlock (s.Then 2 (s.Set ([]) ([])) s.NoBlock (s.Then 3 (s.Set ([]) ([])) s.NoBlock (s.Then 4 (s.Fall ([]) ([])) s.NoBlock s.End))) s.NoBlock) (s.Then 5 (s.Store 0 ([]) ([])) s.NoBlock (s.Then 6 (s.Load 0 ([]) ([])) s.NoBlock (s.Then 7 (s.Share 0 (Number (pos 16)) ([])) s.NoBlock (s.Then 8 (s.Cut 1 (Of2 binary.Cons (Of unary.Vi (Number (pos 1))) (Of2 binary.Cons (Of unary.Vi (Number (pos 2))) Nil)) (Of2 binary.Cons (Of unary.Vi (Number (pos 0))) (Of2 binary.Cons (Of unary.Vi (Number (pos 3))) Nil))) s.NoBlock (s.Then 9 (s.Glue 1 2) s.NoBlock (s.Then 10 (s.Set ([]) ([])) s.NoBlock (s.Then 11 (s.Call ((Number (pos 2)) ∷ []) ([]) ([]) (name_k1 ∷ name_k2 ∷ [])) s.NoBlock (s.Then 12 (s.Naming name_k3 (Of unary.Vi (Number (pos 1)))) s.NoBlock (s.Then 13 (s.Naming name_k4 (Global name_arr)) s.NoBlock (s.Then 14 (s.Set ([]) ([])) s.NoBlock (s.Then 15 (s.Set ([]) ([])) s.NoBlock s.End)))))))))))) ≡ (RefusedAt 15 2 2)
unfolding computing
random_873 = refl

random_874 : body_verdict (record { predicates = ((record { name = name_E; args = ([]); cases = ((record { opened = []; facts = ([]); locals = []; items = ([]) }) ∷ []) }) ∷ []); specs = ((record { is_void = false; name = name_pos; params = (name_n ∷ []); vars = ((name_a, sort.Int) ∷ []); pre = (record { opened = []; facts = ((Rel relation.Le (Number (pos 0)) (Var 0 sort.Int)) ∷ (Rel relation.Le (Var 0 sort.Int) (Number (pos 100))) ∷ []); locals = ((name_n, (Of unary.Vi (Var 0 sort.Int))) ∷ []); items = ([]) }); post = (record { opened = (sort.Int ∷ []); facts = ((Rel relation.Eq (Var 1 sort.Val) (Of unary.Vi (Var 2 sort.Int))) ∷ (Rel relation.Le (Number (pos 0)) (Var 2 sort.Int)) ∷ (Rel relation.Le (Var 2 sort.Int) (Var 0 sort.Int)) ∷ []); locals = []; items = ([]) }) }) ∷ (record { is_void = false; name = name_main; params = ([]); vars = []; pre = (record { opened = []; facts = ([]); locals = []; items = ((Data (Number (pos 64)) (Global name_arr) (Of2 binary.Cons (Of unary.Vi (Number (pos 1))) (Of2 binary.Cons (Of unary.Vi (Number (pos 2))) (Of2 binary.Cons (Of unary.Vi (Number (pos 0))) (Of2 binary.Cons (Of unary.Vi (Number (pos 0))) Nil))))) ∷ []) }); post = (record { opened = []; facts = ([]); locals = []; items = ([]) }) }) ∷ []) }) (record { is_void = false; name = name_pos; params = (name_n ∷ []); vars = ((name_a, sort.Int) ∷ []); pre = (record { opened = []; facts = ((Rel relation.Le (Number (pos 0)) (Var 0 sort.Int)) ∷ (Rel relation.Le (Var 0 sort.Int) (Number (pos 100))) ∷ []); locals = ((name_n, (Of unary.Vi (Var 0 sort.Int))) ∷ []); items = ([]) }); post = (record { opened = (sort.Int ∷ []); facts = ((Rel relation.Eq (Var 1 sort.Val) (Of unary.Vi (Var 2 sort.Int))) ∷ (Rel relation.Le (Number (pos 0)) (Var 2 sort.Int)) ∷ (Rel relation.Le (Var 2 sort.Int) (Var 0 sort.Int)) ∷ []); locals = []; items = ([]) }) }) (record { temps = (name_n ∷ []); body = (c.Then (c.If (c.Nonzero kind.Signed (c.Binary two.Eq kind.Signed (c.Temp 0) (c.Const 0))) (c.Then (c.Return (Some (c.Temp 0))) c.End) c.End) (c.Then (c.Return (Some (c.Const 0))) c.End)) }) (s.Then 1 (s.If ([]) ((record { lines = ((line.Comb (((pos 1), 0) ∷ ((pos 1), 2) ∷ [])) ∷ []) }) ∷ (record { lines = ((line.Comb (((pos 1), 1) ∷ ((pos 1), 2) ∷ [])) ∷ []) }) ∷ []) ([]) ([])) (s.WithBlock (s.Then 2 (s.Return ((Named name_a) ∷ []) ([]) ((record { lines = ((line.Comb (((pos 1), 4) ∷ [])) ∷ []) }) ∷ [])) s.NoBlock s.End) (s.WithBlock (s.Then 3 (s.Return ((Number (pos 0)) ∷ []) ([]) ([])) s.NoBlock s.End) s.NoBlock)) s.End) ≡ Accepted
unfolding computing
random_874 = refl

random_875 : body_verdict (record { predicates = ((record { name = name_E; args = ([]); cases = ((record { opened = []; facts = ([]); locals = []; items = ([]) }) ∷ []) }) ∷ []); specs = ((record { is_void = false; name = name_pos; params = (name_n ∷ []); vars = ((name_a, sort.Int) ∷ []); pre = (record { opened = []; facts = ((Rel relation.Le (Number (pos 0)) (Var 0 sort.Int)) ∷ (Rel relation.Le (Var 0 sort.Int) (Number (pos 100))) ∷ []); locals = ((name_n, (Of unary.Vi (Var 0 sort.Int))) ∷ []); items = ([]) }); post = (record { opened = (sort.Int ∷ []); facts = ((Rel relation.Eq (Var 1 sort.Val) (Of unary.Vi (Var 2 sort.Int))) ∷ (Rel relation.Le (Number (pos 0)) (Var 2 sort.Int)) ∷ (Rel relation.Le (Var 2 sort.Int) (Var 0 sort.Int)) ∷ []); locals = []; items = ([]) }) }) ∷ (record { is_void = false; name = name_main; params = ([]); vars = []; pre = (record { opened = []; facts = ([]); locals = []; items = ((Data (Number (pos 64)) (Global name_arr) (Of2 binary.Cons (Of unary.Vi (Number (pos 1))) (Of2 binary.Cons (Of unary.Vi (Number (pos 2))) (Of2 binary.Cons (Of unary.Vi (Number (pos 0))) (Of2 binary.Cons (Of unary.Vi (Number (pos 0))) Nil))))) ∷ []) }); post = (record { opened = []; facts = ([]); locals = []; items = ([]) }) }) ∷ []) }) (record { is_void = false; name = name_main; params = ([]); vars = []; pre = (record { opened = []; facts = ([]); locals = []; items = ((Data (Number (pos 64)) (Global name_arr) (Of2 binary.Cons (Of unary.Vi (Number (pos 1))) (Of2 binary.Cons (Of unary.Vi (Number (pos 2))) (Of2 binary.Cons (Of unary.Vi (Number (pos 0))) (Of2 binary.Cons (Of unary.Vi (Number (pos 0))) Nil))))) ∷ []) }); post = (record { opened = []; facts = ([]); locals = []; items = ([]) }) }) (record { temps = (name_s ∷ name_t ∷ name_i ∷ name_x1 ∷ name_d0 ∷ name_p1 ∷ name_q1 ∷ []); body = (c.Then (c.Set 0 (c.Const 1)) (c.Then (c.Set 1 (c.Const 3)) (c.Then (c.Store (root.Global name_arr 4) (c.Index kind.Signed (c.Const 3) c.Here) (c.Temp 1)) (c.Then (c.Load 1 (root.Global name_arr 4) (c.Index kind.Signed (c.Const 3) c.Here)) (c.Then (c.Set 0 (c.Binary two.Mul kind.Signed (c.Const 1) (c.Const 1))) (c.Then (c.Call (Some 1) name_pos ((c.Const 2) ∷ [])) (c.Then (c.Set 4 (c.Const 1)) (c.Then (c.Set 1 (c.Binary two.Add kind.Signed (c.Binary two.Add kind.Signed (c.Const 3) (c.Temp 1)) (c.Const 2))) (c.Then (c.Return (Some (c.Temp 0))) c.End))))))))) }) (s.Then 1 (s.Block 2 (record { opened = []; facts = ([]); locals = ((name_s, (Of unary.Vi (Number (pos 1)))) ∷ (name_t, (Of unary.Vi (Number (pos 3)))) ∷ []); items = ((Data (Number (pos 64)) (Global name_arr) (Of2 binary.Cons (Of unary.Vi (Number (pos 1))) (Of2 binary.Cons (Of unary.Vi (Number (pos 2))) (Of2 binary.Cons (Of unary.Vi (Number (pos 0))) (Of2 binary.Cons (Of unary.Vi (Number (pos 0))) Nil))))) ∷ []) }) ([]) ([])) (s.WithBlock (s.Then 2 (s.Load 0 ([]) ([])) s.NoBlock (s.Then 3 (s.Set ([]) ([])) s.NoBlock (s.Then 4 (s.Set ([]) ([])) s.NoBlock (s.Then 5 (s.Fall ([]) ([])) s.NoBlock s.End)))) s.NoBlock) (s.Then 6 (s.Store 0 ([]) ([])) s.NoBlock (s.Then 7 (s.Load 0 ([]) ([])) s.NoBlock (s.Then 8 (s.Share 0 (Number (pos 16)) ([])) s.NoBlock (s.Then 9 (s.Cut 1 (Of2 binary.Cons (Of unary.Vi (Number (pos 1))) (Of2 binary.Cons (Of unary.Vi (Number (pos 2))) Nil)) (Of2 binary.Cons (Of unary.Vi (Number (pos 0))) (Of2 binary.Cons (Of unary.Vi (Number (pos 3))) Nil))) s.NoBlock (s.Then 10 (s.Glue 1 2) s.NoBlock (s.Then 11 (s.Set ([]) ([])) s.NoBlock (s.Then 12 (s.Call ((Number (pos 2)) ∷ []) ([]) ([]) (name_k1 ∷ name_k2 ∷ [])) s.NoBlock (s.Then 13 (s.Naming name_k3 (Of unary.Vi (Number (pos 1)))) s.NoBlock (s.Then 14 (s.Naming name_k4 (Global name_arr)) s.NoBlock (s.Then 15 (s.Set ([]) ([])) s.NoBlock (s.Then 16 (s.Set ([]) ([])) s.NoBlock s.End)))))))))))) ≡ (RefusedAt 2 3 1)
unfolding computing
random_875 = refl

random_876 : body_verdict (record { predicates = ((record { name = name_E; args = ([]); cases = ((record { opened = []; facts = ([]); locals = []; items = ([]) }) ∷ []) }) ∷ []); specs = ((record { is_void = false; name = name_pos; params = (name_n ∷ []); vars = ((name_a, sort.Int) ∷ []); pre = (record { opened = []; facts = ((Rel relation.Le (Number (pos 0)) (Var 0 sort.Int)) ∷ (Rel relation.Le (Var 0 sort.Int) (Number (pos 100))) ∷ []); locals = ((name_n, (Of unary.Vi (Var 0 sort.Int))) ∷ []); items = ([]) }); post = (record { opened = (sort.Int ∷ []); facts = ((Rel relation.Eq (Var 1 sort.Val) (Of unary.Vi (Var 2 sort.Int))) ∷ (Rel relation.Le (Number (pos 0)) (Var 2 sort.Int)) ∷ (Rel relation.Le (Var 2 sort.Int) (Var 0 sort.Int)) ∷ []); locals = []; items = ([]) }) }) ∷ (record { is_void = false; name = name_main; params = ([]); vars = []; pre = (record { opened = []; facts = ([]); locals = []; items = ((Data (Number (pos 64)) (Global name_arr) (Of2 binary.Cons (Of unary.Vi (Number (pos 1))) (Of2 binary.Cons (Of unary.Vi (Number (pos 2))) (Of2 binary.Cons (Of unary.Vi (Number (pos 0))) (Of2 binary.Cons (Of unary.Vi (Number (pos 0))) Nil))))) ∷ []) }); post = (record { opened = []; facts = ([]); locals = []; items = ([]) }) }) ∷ []) }) (record { is_void = false; name = name_main; params = ([]); vars = []; pre = (record { opened = []; facts = ([]); locals = []; items = ((Data (Number (pos 64)) (Global name_arr) (Of2 binary.Cons (Of unary.Vi (Number (pos 1))) (Of2 binary.Cons (Of unary.Vi (Number (pos 2))) (Of2 binary.Cons (Of unary.Vi (Number (pos 0))) (Of2 binary.Cons (Of unary.Vi (Number (pos 0))) Nil))))) ∷ []) }); post = (record { opened = []; facts = ([]); locals = []; items = ([]) }) }) (record { temps = (name_s ∷ name_t ∷ name_i ∷ name_x1 ∷ name_d0 ∷ name_p1 ∷ name_q1 ∷ []); body = (c.Then (c.Set 0 (c.Const 1)) (c.Then (c.Set 1 (c.Const 3)) (c.Then (c.Store (root.Global name_arr 4) (c.Index kind.Signed (c.Const 3) c.Here) (c.Temp 1)) (c.Then (c.Load 1 (root.Global name_arr 4) (c.Index kind.Signed (c.Const 3) c.Here)) (c.Then (c.Set 0 (c.Binary two.Mul kind.Signed (c.Const 1) (c.Const 1))) (c.Then (c.Call (Some 1) name_pos ((c.Const 2) ∷ [])) (c.Then (c.Set 4 (c.Const 1)) (c.Then (c.Set 1 (c.Binary two.Add kind.Signed (c.Binary two.Add kind.Signed (c.Const 3) (c.Temp 1)) (c.Const 2))) (c.Then (c.Return (Some (c.Temp 0))) c.End))))))))) }) (s.Then 1 (s.Block 2 (record { opened = []; facts = ([]); locals = ((name_s, (Of unary.Vi (Number (pos 1)))) ∷ (name_t, (Of unary.Vi (Number (pos 3)))) ∷ []); items = ((Data (Number (pos 64)) (Global name_arr) (Of2 binary.Cons (Of unary.Vi (Number (pos 1))) (Of2 binary.Cons (Of unary.Vi (Number (pos 2))) (Of2 binary.Cons (Of unary.Vi (Number (pos 0))) (Of2 binary.Cons (Of unary.Vi (Number (pos 0))) Nil))))) ∷ []) }) ([]) ([])) (s.WithBlock (s.Then 2 (s.Set ([]) ([])) s.NoBlock (s.Then 3 (s.Set ([]) ([])) s.NoBlock (s.Then 4 (s.Fall ([]) ([])) s.NoBlock s.End))) s.NoBlock) (s.Then 5 (s.Store 0 ([]) ([])) s.NoBlock (s.Then 6 (s.Load 0 ([]) ([])) s.NoBlock (s.Then 7 (s.Share 0 (Number (pos 16)) ([])) s.NoBlock (s.Then 8 (s.Cut 1 (Of2 binary.Cons (Of unary.Vi (Number (pos 1))) (Of2 binary.Cons (Of unary.Vi (Number (pos 2))) Nil)) (Of2 binary.Cons (Of unary.Vi (Number (pos 0))) (Of2 binary.Cons (Of unary.Vi (Number (pos 3))) Nil))) s.NoBlock (s.Then 9 (s.Glue 1 2) s.NoBlock (s.Then 10 (s.Set ([]) ([])) s.NoBlock (s.Then 11 (s.Call ((Number (pos 2)) ∷ []) ([]) ([]) (name_k1 ∷ name_k2 ∷ [])) s.NoBlock (s.Then 12 (s.Naming name_k3 (Of unary.Vi (Number (pos 1)))) s.NoBlock (s.Then 13 (s.Naming name_k4 (Global name_arr)) s.NoBlock (s.Then 14 (s.Agree 0 1 ([])) s.NoBlock (s.Then 15 (s.Set ([]) ([])) s.NoBlock (s.Then 16 (s.Set ([]) ([])) s.NoBlock s.End))))))))))))) ≡ (RefusedAt 16 2 2)
unfolding computing
random_876 = refl

random_877 : body_verdict (record { predicates = ((record { name = name_E; args = ([]); cases = ((record { opened = []; facts = ([]); locals = []; items = ([]) }) ∷ []) }) ∷ []); specs = ((record { is_void = false; name = name_pos; params = (name_n ∷ []); vars = ((name_a, sort.Int) ∷ []); pre = (record { opened = []; facts = ((Rel relation.Le (Number (pos 0)) (Var 0 sort.Int)) ∷ (Rel relation.Le (Var 0 sort.Int) (Number (pos 100))) ∷ []); locals = ((name_n, (Of unary.Vi (Var 0 sort.Int))) ∷ []); items = ([]) }); post = (record { opened = (sort.Int ∷ []); facts = ((Rel relation.Eq (Var 1 sort.Val) (Of unary.Vi (Var 2 sort.Int))) ∷ (Rel relation.Le (Number (pos 0)) (Var 2 sort.Int)) ∷ (Rel relation.Le (Var 2 sort.Int) (Var 0 sort.Int)) ∷ []); locals = []; items = ([]) }) }) ∷ (record { is_void = false; name = name_main; params = ([]); vars = []; pre = (record { opened = []; facts = ([]); locals = []; items = ((Data (Number (pos 64)) (Global name_arr) (Of2 binary.Cons (Of unary.Vi (Number (pos 1))) (Of2 binary.Cons (Of unary.Vi (Number (pos 2))) (Of2 binary.Cons (Of unary.Vi (Number (pos 0))) (Of2 binary.Cons (Of unary.Vi (Number (pos 0))) Nil))))) ∷ []) }); post = (record { opened = []; facts = ([]); locals = []; items = ([]) }) }) ∷ []) }) (record { is_void = false; name = name_pos; params = (name_n ∷ []); vars = ((name_a, sort.Int) ∷ []); pre = (record { opened = []; facts = ((Rel relation.Le (Number (pos 0)) (Var 0 sort.Int)) ∷ (Rel relation.Le (Var 0 sort.Int) (Number (pos 100))) ∷ []); locals = ((name_n, (Of unary.Vi (Var 0 sort.Int))) ∷ []); items = ([]) }); post = (record { opened = (sort.Int ∷ []); facts = ((Rel relation.Eq (Var 1 sort.Val) (Of unary.Vi (Var 2 sort.Int))) ∷ (Rel relation.Le (Number (pos 0)) (Var 2 sort.Int)) ∷ (Rel relation.Le (Var 2 sort.Int) (Var 0 sort.Int)) ∷ []); locals = []; items = ([]) }) }) (record { temps = (name_n ∷ []); body = (c.Then (c.If (c.Nonzero kind.Signed (c.Binary two.Eq kind.Signed (c.Temp 0) (c.Const 0))) (c.Then (c.Return (Some (c.Temp 0))) c.End) c.End) (c.Then (c.Return (Some (c.Const 0))) c.End)) }) (s.Then 1 (s.If ([]) ((record { lines = ((line.Comb (((pos 1), 0) ∷ ((pos 1), 2) ∷ [])) ∷ []) }) ∷ (record { lines = ((line.Comb (((pos 1), 1) ∷ ((pos 1), 2) ∷ [])) ∷ []) }) ∷ []) ([]) ([])) (s.WithBlock (s.Then 2 (s.Return ((Named name_a) ∷ []) ([]) ((record { lines = ((line.Comb (((pos 1), 4) ∷ [])) ∷ []) }) ∷ [])) s.NoBlock (s.Then 3 (s.Return ((Named name_a) ∷ []) ([]) ((record { lines = ((line.Comb (((pos 1), 4) ∷ [])) ∷ []) }) ∷ [])) s.NoBlock s.End)) (s.WithBlock (s.Then 4 (s.Return ((Number (pos 0)) ∷ []) ([]) ([])) s.NoBlock s.End) s.NoBlock)) s.End) ≡ (RefusedAt 3 0 11)
unfolding computing
random_877 = refl

random_878 : body_verdict (record { predicates = ((record { name = name_E; args = ([]); cases = ((record { opened = []; facts = ([]); locals = []; items = ([]) }) ∷ []) }) ∷ []); specs = ((record { is_void = false; name = name_pos; params = (name_n ∷ []); vars = ((name_a, sort.Int) ∷ []); pre = (record { opened = []; facts = ((Rel relation.Le (Number (pos 0)) (Var 0 sort.Int)) ∷ (Rel relation.Le (Var 0 sort.Int) (Number (pos 100))) ∷ []); locals = ((name_n, (Of unary.Vi (Var 0 sort.Int))) ∷ []); items = ([]) }); post = (record { opened = (sort.Int ∷ []); facts = ((Rel relation.Eq (Var 1 sort.Val) (Of unary.Vi (Var 2 sort.Int))) ∷ (Rel relation.Le (Number (pos 0)) (Var 2 sort.Int)) ∷ (Rel relation.Le (Var 2 sort.Int) (Var 0 sort.Int)) ∷ []); locals = []; items = ([]) }) }) ∷ (record { is_void = false; name = name_main; params = ([]); vars = []; pre = (record { opened = []; facts = ([]); locals = []; items = ((Data (Number (pos 64)) (Global name_arr) (Of2 binary.Cons (Of unary.Vi (Number (pos 1))) (Of2 binary.Cons (Of unary.Vi (Number (pos 2))) (Of2 binary.Cons (Of unary.Vi (Number (pos 0))) (Of2 binary.Cons (Of unary.Vi (Number (pos 0))) Nil))))) ∷ []) }); post = (record { opened = []; facts = ([]); locals = []; items = ([]) }) }) ∷ []) }) (record { is_void = false; name = name_main; params = ([]); vars = []; pre = (record { opened = []; facts = ([]); locals = []; items = ((Data (Number (pos 64)) (Global name_arr) (Of2 binary.Cons (Of unary.Vi (Number (pos 1))) (Of2 binary.Cons (Of unary.Vi (Number (pos 2))) (Of2 binary.Cons (Of unary.Vi (Number (pos 0))) (Of2 binary.Cons (Of unary.Vi (Number (pos 0))) Nil))))) ∷ []) }); post = (record { opened = []; facts = ([]); locals = []; items = ([]) }) }) (record { temps = (name_s ∷ name_t ∷ name_i ∷ name_x1 ∷ name_d0 ∷ name_p1 ∷ name_q1 ∷ []); body = (c.Then (c.Set 0 (c.Const 1)) (c.Then (c.Set 1 (c.Const 3)) (c.Then (c.Store (root.Global name_arr 4) (c.Index kind.Signed (c.Const 3) c.Here) (c.Temp 1)) (c.Then (c.Load 1 (root.Global name_arr 4) (c.Index kind.Signed (c.Const 3) c.Here)) (c.Then (c.Set 0 (c.Binary two.Mul kind.Signed (c.Const 1) (c.Const 1))) (c.Then (c.Set 4 (c.Const 1)) (c.Then (c.Set 1 (c.Binary two.Add kind.Signed (c.Binary two.Add kind.Signed (c.Const 3) (c.Temp 1)) (c.Const 2))) (c.Then (c.Return (Some (c.Temp 0))) c.End)))))))) }) (s.Then 1 (s.Block 2 (record { opened = []; facts = ([]); locals = ((name_s, (Of unary.Vi (Number (pos 1)))) ∷ (name_t, (Of unary.Vi (Number (pos 3)))) ∷ []); items = ((Data (Number (pos 64)) (Global name_arr) (Of2 binary.Cons (Of unary.Vi (Number (pos 1))) (Of2 binary.Cons (Of unary.Vi (Number (pos 2))) (Of2 binary.Cons (Of unary.Vi (Number (pos 0))) (Of2 binary.Cons (Of unary.Vi (Number (pos 0))) Nil))))) ∷ []) }) ([]) ([])) (s.WithBlock (s.Then 2 (s.Set ([]) ([])) s.NoBlock (s.Then 3 (s.Set ([]) ([])) s.NoBlock (s.Then 4 (s.Fall ([]) ([])) s.NoBlock s.End))) s.NoBlock) (s.Then 5 (s.Store 0 ([]) ([])) s.NoBlock (s.Then 6 (s.Load 0 ([]) ([])) s.NoBlock (s.Then 7 (s.Share 0 (Number (pos 16)) ([])) s.NoBlock (s.Then 8 (s.Cut 1 (Of2 binary.Cons (Of unary.Vi (Number (pos 1))) (Of2 binary.Cons (Of unary.Vi (Number (pos 2))) Nil)) (Of2 binary.Cons (Of unary.Vi (Number (pos 0))) (Of2 binary.Cons (Of unary.Vi (Number (pos 3))) Nil))) s.NoBlock (s.Then 9 (s.Glue 1 2) s.NoBlock (s.Then 10 (s.Set ([]) ([])) s.NoBlock (s.Then 11 (s.Call ((Number (pos 2)) ∷ []) ([]) ([]) (name_k1 ∷ name_k2 ∷ [])) s.NoBlock (s.Then 12 (s.Naming name_k3 (Of unary.Vi (Number (pos 1)))) s.NoBlock (s.Then 13 (s.Naming name_k4 (Global name_arr)) s.NoBlock (s.Then 14 (s.Set ([]) ([])) s.NoBlock (s.Then 15 (s.Set ([]) ([])) s.NoBlock s.End)))))))))))) ≡ (RefusedAt 11 13 1)
unfolding computing
random_878 = refl

random_879 : body_verdict (record { predicates = ((record { name = name_E; args = ([]); cases = ((record { opened = []; facts = ([]); locals = []; items = ([]) }) ∷ []) }) ∷ []); specs = ((record { is_void = false; name = name_pos; params = (name_n ∷ []); vars = ((name_a, sort.Int) ∷ []); pre = (record { opened = []; facts = ((Rel relation.Le (Number (pos 0)) (Var 0 sort.Int)) ∷ (Rel relation.Le (Var 0 sort.Int) (Number (pos 100))) ∷ []); locals = ((name_n, (Of unary.Vi (Var 0 sort.Int))) ∷ []); items = ([]) }); post = (record { opened = (sort.Int ∷ []); facts = ((Rel relation.Eq (Var 1 sort.Val) (Of unary.Vi (Var 2 sort.Int))) ∷ (Rel relation.Le (Number (pos 0)) (Var 2 sort.Int)) ∷ (Rel relation.Le (Var 2 sort.Int) (Var 0 sort.Int)) ∷ []); locals = []; items = ([]) }) }) ∷ (record { is_void = false; name = name_main; params = ([]); vars = []; pre = (record { opened = []; facts = ([]); locals = []; items = ((Data (Number (pos 64)) (Global name_arr) (Of2 binary.Cons (Of unary.Vi (Number (pos 1))) (Of2 binary.Cons (Of unary.Vi (Number (pos 2))) (Of2 binary.Cons (Of unary.Vi (Number (pos 0))) (Of2 binary.Cons (Of unary.Vi (Number (pos 0))) Nil))))) ∷ []) }); post = (record { opened = []; facts = ([]); locals = []; items = ([]) }) }) ∷ []) }) (record { is_void = false; name = name_main; params = ([]); vars = []; pre = (record { opened = []; facts = ([]); locals = []; items = ((Data (Number (pos 64)) (Global name_arr) (Of2 binary.Cons (Of unary.Vi (Number (pos 1))) (Of2 binary.Cons (Of unary.Vi (Number (pos 2))) (Of2 binary.Cons (Of unary.Vi (Number (pos 0))) (Of2 binary.Cons (Of unary.Vi (Number (pos 0))) Nil))))) ∷ []) }); post = (record { opened = []; facts = ([]); locals = []; items = ([]) }) }) (record { temps = (name_s ∷ name_t ∷ name_i ∷ name_x1 ∷ name_d0 ∷ name_p1 ∷ name_q1 ∷ []); body = (c.Then (c.Set 0 (c.Const 1)) (c.Then (c.Set 1 (c.Const 3)) (c.Then (c.Store (root.Global name_arr 4) (c.Index kind.Signed (c.Const 3) c.Here) (c.Temp 1)) (c.Then (c.Load 1 (root.Global name_arr 4) (c.Index kind.Signed (c.Const 3) c.Here)) (c.Then (c.Set 0 (c.Binary two.Mul kind.Signed (c.Const 1) (c.Const 1))) (c.Then (c.Call (Some 1) name_pos ((c.Const 2) ∷ [])) (c.Then (c.Set 4 (c.Const 1)) (c.Then (c.Set 1 (c.Binary two.Add kind.Signed (c.Binary two.Add kind.Signed (c.Const 3) (c.Temp 1)) (c.Const 2))) (c.Then (c.Return (Some (c.Temp 0))) c.End))))))))) }) (s.Then 1 (s.Block 2 (record { opened = []; facts = ([]); locals = ((name_s, (Of unary.Vi (Number (pos 1)))) ∷ (name_t, (Of unary.Vi (Number (pos 3)))) ∷ []); items = ((Data (Number (pos 64)) (Global name_arr) (Of2 binary.Cons (Of unary.Vi (Number (pos 1))) (Of2 binary.Cons (Of unary.Vi (Number (pos 2))) (Of2 binary.Cons (Of unary.Vi (Number (pos 0))) (Of2 binary.Cons (Of unary.Vi (Number (pos 0))) Nil))))) ∷ []) }) ([]) ([])) (s.WithBlock (s.Then 2 (s.Set ([]) ([])) s.NoBlock (s.Then 3 (s.Set ([]) ([])) s.NoBlock (s.Then 4 (s.Fall ([]) ([])) s.NoBlock s.End))) s.NoBlock) (s.Then 5 (s.Store 0 ([]) ([])) s.NoBlock (s.Then 6 (s.Load 0 ([]) ([])) s.NoBlock (s.Then 7 (s.Share 0 (Number (pos 16)) ([])) s.NoBlock (s.Then 8 (s.Glue 1 2) s.NoBlock (s.Then 9 (s.Set ([]) ([])) s.NoBlock (s.Then 10 (s.Call ((Number (pos 2)) ∷ []) ([]) ([]) (name_k1 ∷ name_k2 ∷ [])) s.NoBlock (s.Then 11 (s.Naming name_k3 (Of unary.Vi (Number (pos 1)))) s.NoBlock (s.Then 12 (s.Naming name_k4 (Global name_arr)) s.NoBlock (s.Then 13 (s.Set ([]) ([])) s.NoBlock (s.Then 14 (s.Set ([]) ([])) s.NoBlock s.End))))))))))) ≡ (RefusedAt 8 30 1)
unfolding computing
random_879 = refl

random_880 : body_verdict (record { predicates = ((record { name = name_E; args = ([]); cases = ((record { opened = []; facts = ([]); locals = []; items = ([]) }) ∷ []) }) ∷ []); specs = ((record { is_void = false; name = name_pos; params = (name_n ∷ []); vars = ((name_a, sort.Int) ∷ []); pre = (record { opened = []; facts = ((Rel relation.Le (Number (pos 0)) (Var 0 sort.Int)) ∷ (Rel relation.Le (Var 0 sort.Int) (Number (pos 100))) ∷ []); locals = ((name_n, (Of unary.Vi (Var 0 sort.Int))) ∷ []); items = ([]) }); post = (record { opened = (sort.Int ∷ []); facts = ((Rel relation.Eq (Var 1 sort.Val) (Of unary.Vi (Var 2 sort.Int))) ∷ (Rel relation.Le (Number (pos 0)) (Var 2 sort.Int)) ∷ (Rel relation.Le (Var 2 sort.Int) (Var 0 sort.Int)) ∷ []); locals = []; items = ([]) }) }) ∷ (record { is_void = false; name = name_main; params = ([]); vars = []; pre = (record { opened = []; facts = ([]); locals = []; items = ((Data (Number (pos 64)) (Global name_arr) (Of2 binary.Cons (Of unary.Vi (Number (pos 1))) (Of2 binary.Cons (Of unary.Vi (Number (pos 2))) (Of2 binary.Cons (Of unary.Vi (Number (pos 0))) (Of2 binary.Cons (Of unary.Vi (Number (pos 0))) Nil))))) ∷ []) }); post = (record { opened = []; facts = ([]); locals = []; items = ([]) }) }) ∷ []) }) (record { is_void = false; name = name_main; params = ([]); vars = []; pre = (record { opened = []; facts = ([]); locals = []; items = ((Data (Number (pos 64)) (Global name_arr) (Of2 binary.Cons (Of unary.Vi (Number (pos 1))) (Of2 binary.Cons (Of unary.Vi (Number (pos 2))) (Of2 binary.Cons (Of unary.Vi (Number (pos 0))) (Of2 binary.Cons (Of unary.Vi (Number (pos 0))) Nil))))) ∷ []) }); post = (record { opened = []; facts = ([]); locals = []; items = ([]) }) }) (record { temps = (name_s ∷ name_t ∷ name_i ∷ name_x1 ∷ name_d0 ∷ name_p1 ∷ name_q1 ∷ []); body = (c.Then (c.Set 0 (c.Const 1)) (c.Then (c.Set 1 (c.Const 3)) (c.Then (c.Store (root.Global name_arr 4) (c.Index kind.Signed (c.Const 3) c.Here) (c.Temp 1)) (c.Then (c.Load 1 (root.Global name_arr 4) (c.Index kind.Signed (c.Const 3) c.Here)) (c.Then (c.Set 0 (c.Binary two.Mul kind.Signed (c.Const 1) (c.Const 1))) (c.Then (c.Call (Some 1) name_pos ((c.Const 2) ∷ [])) (c.Then (c.Set 4 (c.Const 1)) (c.Then (c.Set 1 (c.Binary two.Add kind.Signed (c.Binary two.Add kind.Signed (c.Const 3) (c.Temp 1)) (c.Const 2))) (c.Then (c.Return (Some (c.Temp 0))) c.End))))))))) }) (s.Then 1 (s.Block 2 (record { opened = []; facts = ([]); locals = ((name_s, (Of unary.Vi (Number (pos 1)))) ∷ (name_t, (Of unary.Vi (Number (pos 3)))) ∷ []); items = ((Data (Number (pos 64)) (Global name_arr) (Of2 binary.Cons (Of unary.Vi (Number (pos 1))) (Of2 binary.Cons (Of unary.Vi (Number (pos 2))) (Of2 binary.Cons (Of unary.Vi (Number (pos 0))) (Of2 binary.Cons (Of unary.Vi (Number (pos 0))) Nil))))) ∷ []) }) ([]) ([])) (s.WithBlock (s.Then 2 (s.Set ([]) ([])) s.NoBlock (s.Then 3 (s.Set ([]) ([])) s.NoBlock (s.Then 4 (s.Fall ([]) ([])) s.NoBlock s.End))) s.NoBlock) (s.Then 5 (s.Store 0 ([]) ([])) s.NoBlock (s.Then 6 (s.Load 0 ([]) ([])) s.NoBlock (s.Then 7 (s.Cut 1 (Of2 binary.Cons (Of unary.Vi (Number (pos 1))) (Of2 binary.Cons (Of unary.Vi (Number (pos 2))) Nil)) (Of2 binary.Cons (Of unary.Vi (Number (pos 0))) (Of2 binary.Cons (Of unary.Vi (Number (pos 3))) Nil))) s.NoBlock (s.Then 8 (s.Glue 1 2) s.NoBlock (s.Then 9 (s.Set ([]) ([])) s.NoBlock (s.Then 10 (s.Call ((Number (pos 2)) ∷ []) ([]) ([]) (name_k1 ∷ name_k2 ∷ [])) s.NoBlock (s.Then 11 (s.Naming name_k3 (Of unary.Vi (Number (pos 1)))) s.NoBlock (s.Then 12 (s.Naming name_k4 (Global name_arr)) s.NoBlock (s.Then 13 (s.Set ([]) ([])) s.NoBlock (s.Then 14 (s.Set ([]) ([])) s.NoBlock s.End))))))))))) ≡ (RefusedAt 7 29 1)
unfolding computing
random_880 = refl

random_881 : body_verdict (record { predicates = ((record { name = name_E; args = ([]); cases = ((record { opened = []; facts = ([]); locals = []; items = ([]) }) ∷ []) }) ∷ []); specs = ((record { is_void = false; name = name_pos; params = (name_n ∷ []); vars = ((name_a, sort.Int) ∷ []); pre = (record { opened = []; facts = ((Rel relation.Le (Number (pos 0)) (Var 0 sort.Int)) ∷ (Rel relation.Le (Var 0 sort.Int) (Number (pos 100))) ∷ []); locals = ((name_n, (Of unary.Vi (Var 0 sort.Int))) ∷ []); items = ([]) }); post = (record { opened = (sort.Int ∷ []); facts = ((Rel relation.Eq (Var 1 sort.Val) (Of unary.Vi (Var 2 sort.Int))) ∷ (Rel relation.Le (Number (pos 0)) (Var 2 sort.Int)) ∷ (Rel relation.Le (Var 2 sort.Int) (Var 0 sort.Int)) ∷ []); locals = []; items = ([]) }) }) ∷ (record { is_void = false; name = name_main; params = ([]); vars = []; pre = (record { opened = []; facts = ([]); locals = []; items = ((Data (Number (pos 64)) (Global name_arr) (Of2 binary.Cons (Of unary.Vi (Number (pos 1))) (Of2 binary.Cons (Of unary.Vi (Number (pos 2))) (Of2 binary.Cons (Of unary.Vi (Number (pos 0))) (Of2 binary.Cons (Of unary.Vi (Number (pos 0))) Nil))))) ∷ []) }); post = (record { opened = []; facts = ([]); locals = []; items = ([]) }) }) ∷ []) }) (record { is_void = false; name = name_pos; params = (name_n ∷ []); vars = ((name_a, sort.Int) ∷ []); pre = (record { opened = []; facts = ((Rel relation.Le (Number (pos 0)) (Var 0 sort.Int)) ∷ (Rel relation.Le (Var 0 sort.Int) (Number (pos 100))) ∷ []); locals = ((name_n, (Of unary.Vi (Var 0 sort.Int))) ∷ []); items = ([]) }); post = (record { opened = (sort.Int ∷ []); facts = ((Rel relation.Eq (Var 1 sort.Val) (Of unary.Vi (Var 2 sort.Int))) ∷ (Rel relation.Le (Number (pos 0)) (Var 2 sort.Int)) ∷ (Rel relation.Le (Var 2 sort.Int) (Var 0 sort.Int)) ∷ []); locals = []; items = ([]) }) }) (record { temps = (name_n ∷ []); body = (c.Then (c.If (c.Nonzero kind.Signed (c.Binary two.Eq kind.Signed (c.Temp 0) (c.Const 0))) (c.Then (c.Return (Some (c.Temp 0))) c.End) c.End) (c.Then (c.Return (Some (c.Const 0))) c.End)) }) (s.Then 1 (s.If ([]) ((record { lines = ((line.Comb (((pos 1), 0) ∷ ((pos 1), 2) ∷ [])) ∷ []) }) ∷ (record { lines = ((line.Comb (((pos 0), 1) ∷ ((pos 1), 2) ∷ [])) ∷ []) }) ∷ []) ([]) ([])) (s.WithBlock (s.Then 2 (s.Return ((Named name_a) ∷ []) ([]) ((record { lines = ((line.Comb (((pos 1), 4) ∷ [])) ∷ []) }) ∷ [])) s.NoBlock s.End) (s.WithBlock (s.Then 3 (s.Return ((Number (pos 0)) ∷ []) ([]) ([])) s.NoBlock s.End) s.NoBlock)) s.End) ≡ (RefusedAt 1 5 3)
unfolding computing
random_881 = refl

random_882 : body_verdict (record { predicates = ((record { name = name_E; args = ([]); cases = ((record { opened = []; facts = ([]); locals = []; items = ([]) }) ∷ []) }) ∷ []); specs = ((record { is_void = false; name = name_pos; params = (name_n ∷ []); vars = ((name_a, sort.Int) ∷ []); pre = (record { opened = []; facts = ((Rel relation.Le (Number (pos 0)) (Var 0 sort.Int)) ∷ (Rel relation.Le (Var 0 sort.Int) (Number (pos 100))) ∷ []); locals = ((name_n, (Of unary.Vi (Var 0 sort.Int))) ∷ []); items = ([]) }); post = (record { opened = (sort.Int ∷ []); facts = ((Rel relation.Eq (Var 1 sort.Val) (Of unary.Vi (Var 2 sort.Int))) ∷ (Rel relation.Le (Number (pos 0)) (Var 2 sort.Int)) ∷ (Rel relation.Le (Var 2 sort.Int) (Var 0 sort.Int)) ∷ []); locals = []; items = ([]) }) }) ∷ (record { is_void = false; name = name_main; params = ([]); vars = []; pre = (record { opened = []; facts = ([]); locals = []; items = ((Data (Number (pos 64)) (Global name_arr) (Of2 binary.Cons (Of unary.Vi (Number (pos 1))) (Of2 binary.Cons (Of unary.Vi (Number (pos 2))) (Of2 binary.Cons (Of unary.Vi (Number (pos 0))) (Of2 binary.Cons (Of unary.Vi (Number (pos 0))) Nil))))) ∷ []) }); post = (record { opened = []; facts = ([]); locals = []; items = ([]) }) }) ∷ []) }) (record { is_void = false; name = name_main; params = ([]); vars = []; pre = (record { opened = []; facts = ([]); locals = []; items = ((Data (Number (pos 64)) (Global name_arr) (Of2 binary.Cons (Of unary.Vi (Number (pos 1))) (Of2 binary.Cons (Of unary.Vi (Number (pos 2))) (Of2 binary.Cons (Of unary.Vi (Number (pos 0))) (Of2 binary.Cons (Of unary.Vi (Number (pos 0))) Nil))))) ∷ []) }); post = (record { opened = []; facts = ([]); locals = []; items = ([]) }) }) (record { temps = (name_s ∷ name_t ∷ name_i ∷ name_x1 ∷ name_d0 ∷ name_p1 ∷ name_q1 ∷ []); body = (c.Then (c.Set 0 (c.Const 1)) (c.Then (c.Set 1 (c.Const 3)) (c.Then (c.Store (root.Global name_arr 4) (c.Index kind.Signed (c.Const 3) c.Here) (c.Temp 1)) (c.Then (c.Load 1 (root.Global name_arr 4) (c.Index kind.Signed (c.Const 3) c.Here)) (c.Then (c.Set 0 (c.Binary two.Mul kind.Signed (c.Const 1) (c.Const 1))) (c.Then (c.Call (Some 1) name_pos ((c.Const 2) ∷ [])) (c.Then (c.Set 4 (c.Const 1)) (c.Then (c.Set 1 (c.Binary two.Add kind.Signed (c.Binary two.Add kind.Signed (c.Const 3) (c.Temp 1)) (c.Const 2))) (c.Then (c.Return (Some (c.Temp 0))) c.End))))))))) }) (s.Then 1 (s.Block 2 (record { opened = []; facts = ([]); locals = ((name_s, (Of unary.Vi (Number (pos 1)))) ∷ (name_t, (Of unary.Vi (Number (pos 3)))) ∷ []); items = ((Data (Number (pos 64)) (Global name_arr) (Of2 binary.Cons (Of unary.Vi (Number (pos 1))) (Of2 binary.Cons (Of unary.Vi (Number (pos 2))) (Of2 binary.Cons (Of unary.Vi (Number (pos 0))) (Of2 binary.Cons (Of unary.Vi (Number (pos 32))) Nil))))) ∷ []) }) ([]) ([])) (s.WithBlock (s.Then 2 (s.Set ([]) ([])) s.NoBlock (s.Then 3 (s.Set ([]) ([])) s.NoBlock (s.Then 4 (s.Fall ([]) ([])) s.NoBlock s.End))) s.NoBlock) (s.Then 5 (s.Store 0 ([]) ([])) s.NoBlock (s.Then 6 (s.Load 0 ([]) ([])) s.NoBlock (s.Then 7 (s.Share 0 (Number (pos 16)) ([])) s.NoBlock (s.Then 8 (s.Cut 1 (Of2 binary.Cons (Of unary.Vi (Number (pos 1))) (Of2 binary.Cons (Of unary.Vi (Number (pos 2))) Nil)) (Of2 binary.Cons (Of unary.Vi (Number (pos 0))) (Of2 binary.Cons (Of unary.Vi (Number (pos 3))) Nil))) s.NoBlock (s.Then 9 (s.Glue 1 2) s.NoBlock (s.Then 10 (s.Set ([]) ([])) s.NoBlock (s.Then 11 (s.Call ((Number (pos 2)) ∷ []) ([]) ([]) (name_k2 ∷ name_k2 ∷ [])) s.NoBlock (s.Then 12 (s.Naming name_k3 (Of unary.Vi (Number (pos 1)))) s.NoBlock (s.Then 13 (s.Naming name_k4 (Global name_arr)) s.NoBlock (s.Then 14 (s.Set ([]) ([])) s.NoBlock (s.Then 15 (s.Set ([]) ([])) s.NoBlock s.End)))))))))))) ≡ (RefusedAt 4 10 5)
unfolding computing
random_882 = refl

random_883 : body_verdict (record { predicates = ((record { name = name_E; args = ([]); cases = ((record { opened = []; facts = ([]); locals = []; items = ([]) }) ∷ []) }) ∷ []); specs = ((record { is_void = false; name = name_pos; params = (name_n ∷ []); vars = ((name_a, sort.Int) ∷ []); pre = (record { opened = []; facts = ((Rel relation.Le (Number (pos 0)) (Var 0 sort.Int)) ∷ (Rel relation.Le (Var 0 sort.Int) (Number (pos 100))) ∷ []); locals = ((name_n, (Of unary.Vi (Var 0 sort.Int))) ∷ []); items = ([]) }); post = (record { opened = (sort.Int ∷ []); facts = ((Rel relation.Eq (Var 1 sort.Val) (Of unary.Vi (Var 2 sort.Int))) ∷ (Rel relation.Le (Number (pos 0)) (Var 2 sort.Int)) ∷ (Rel relation.Le (Var 2 sort.Int) (Var 0 sort.Int)) ∷ []); locals = []; items = ([]) }) }) ∷ (record { is_void = false; name = name_main; params = ([]); vars = []; pre = (record { opened = []; facts = ([]); locals = []; items = ((Data (Number (pos 64)) (Global name_arr) (Of2 binary.Cons (Of unary.Vi (Number (pos 1))) (Of2 binary.Cons (Of unary.Vi (Number (pos 2))) (Of2 binary.Cons (Of unary.Vi (Number (pos 0))) (Of2 binary.Cons (Of unary.Vi (Number (pos 0))) Nil))))) ∷ []) }); post = (record { opened = []; facts = ([]); locals = []; items = ([]) }) }) ∷ []) }) (record { is_void = false; name = name_main; params = ([]); vars = []; pre = (record { opened = []; facts = ([]); locals = []; items = ((Data (Number (pos 64)) (Global name_arr) (Of2 binary.Cons (Of unary.Vi (Number (pos 1))) (Of2 binary.Cons (Of unary.Vi (Number (pos 2))) (Of2 binary.Cons (Of unary.Vi (Number (pos 0))) (Of2 binary.Cons (Of unary.Vi (Number (pos 0))) Nil))))) ∷ []) }); post = (record { opened = []; facts = ([]); locals = []; items = ([]) }) }) (record { temps = (name_s ∷ name_t ∷ name_i ∷ name_x1 ∷ name_d0 ∷ name_p1 ∷ name_q1 ∷ []); body = (c.Then (c.Set 0 (c.Const 1)) (c.Then (c.Set 1 (c.Const 3)) (c.Then (c.Store (root.Global name_arr 4) (c.Index kind.Signed (c.Const 3) c.Here) (c.Temp 1)) (c.Then (c.Load 1 (root.Global name_arr 4) (c.Index kind.Signed (c.Const 3) c.Here)) (c.Then (c.Set 0 (c.Binary two.Mul kind.Signed (c.Const 1) (c.Const 1))) (c.Then (c.Call (Some 1) name_pos ((c.Const 2) ∷ [])) (c.Then (c.Set 4 (c.Const 1)) (c.Then (c.Set 1 (c.Binary two.Add kind.Signed (c.Binary two.Add kind.Signed (c.Const 3) (c.Temp 1)) (c.Const 2))) (c.Then (c.Return (Some (c.Temp 0))) c.End))))))))) }) (s.Then 1 (s.Block 2 (record { opened = []; facts = ([]); locals = ((name_s, (Of unary.Vi (Number (pos 1)))) ∷ (name_t, (Of unary.Vi (Number (pos 3)))) ∷ []); items = ((Data (Number (pos 64)) (Global name_arr) (Of2 binary.Cons (Of unary.Vi (Number (pos 1))) (Of2 binary.Cons (Of unary.Vi (Number (pos 2))) (Of2 binary.Cons (Of unary.Vi (Number (pos 0))) (Of2 binary.Cons (Of unary.Vi (Number (pos 0))) Nil))))) ∷ []) }) ([]) ([])) (s.WithBlock (s.Then 2 (s.Set ([]) ([])) s.NoBlock (s.Then 3 (s.Set ([]) ([])) s.NoBlock (s.Then 4 (s.Set ([]) ([])) s.NoBlock (s.Then 5 (s.Fall ([]) ([])) s.NoBlock s.End)))) s.NoBlock) (s.Then 6 (s.Store 0 ([]) ([])) s.NoBlock (s.Then 7 (s.Load 0 ([]) ([])) s.NoBlock (s.Then 8 (s.Share 0 (Number (pos 16)) ([])) s.NoBlock (s.Then 9 (s.Cut 1 (Of2 binary.Cons (Of unary.Vi (Number (pos 1))) (Of2 binary.Cons (Of unary.Vi (Number (pos 2))) Nil)) (Of2 binary.Cons (Of unary.Vi (Number (pos 0))) (Of2 binary.Cons (Of unary.Vi (Number (pos 3))) Nil))) s.NoBlock (s.Then 10 (s.Glue 1 2) s.NoBlock (s.Then 11 (s.Set ([]) ([])) s.NoBlock (s.Then 12 (s.Call ((Number (pos 2)) ∷ []) ([]) ([]) (name_k1 ∷ name_k2 ∷ [])) s.NoBlock (s.Then 13 (s.Naming name_k3 (Of unary.Vi (Number (pos 1)))) s.NoBlock (s.Then 14 (s.Naming name_k4 (Global name_arr)) s.NoBlock (s.Then 15 (s.Set ([]) ([])) s.NoBlock (s.Then 16 (s.Set ([]) ([])) s.NoBlock s.End)))))))))))) ≡ (RefusedAt 4 2 1)
unfolding computing
random_883 = refl

random_884 : body_verdict (record { predicates = ((record { name = name_E; args = ([]); cases = ((record { opened = []; facts = ([]); locals = []; items = ([]) }) ∷ []) }) ∷ []); specs = ((record { is_void = false; name = name_pos; params = (name_n ∷ []); vars = ((name_a, sort.Int) ∷ []); pre = (record { opened = []; facts = ((Rel relation.Le (Number (pos 0)) (Var 0 sort.Int)) ∷ (Rel relation.Le (Var 0 sort.Int) (Number (pos 100))) ∷ []); locals = ((name_n, (Of unary.Vi (Var 0 sort.Int))) ∷ []); items = ([]) }); post = (record { opened = (sort.Int ∷ []); facts = ((Rel relation.Eq (Var 1 sort.Val) (Of unary.Vi (Var 2 sort.Int))) ∷ (Rel relation.Le (Number (pos 0)) (Var 2 sort.Int)) ∷ (Rel relation.Le (Var 2 sort.Int) (Var 0 sort.Int)) ∷ []); locals = []; items = ([]) }) }) ∷ (record { is_void = false; name = name_main; params = ([]); vars = []; pre = (record { opened = []; facts = ([]); locals = []; items = ((Data (Number (pos 64)) (Global name_arr) (Of2 binary.Cons (Of unary.Vi (Number (pos 1))) (Of2 binary.Cons (Of unary.Vi (Number (pos 2))) (Of2 binary.Cons (Of unary.Vi (Number (pos 0))) (Of2 binary.Cons (Of unary.Vi (Number (pos 0))) Nil))))) ∷ []) }); post = (record { opened = []; facts = ([]); locals = []; items = ([]) }) }) ∷ []) }) (record { is_void = false; name = name_main; params = ([]); vars = []; pre = (record { opened = []; facts = ([]); locals = []; items = ((Data (Number (pos 64)) (Global name_arr) (Of2 binary.Cons (Of unary.Vi (Number (pos 1))) (Of2 binary.Cons (Of unary.Vi (Number (pos 2))) (Of2 binary.Cons (Of unary.Vi (Number (pos 0))) (Of2 binary.Cons (Of unary.Vi (Number (pos 0))) Nil))))) ∷ []) }); post = (record { opened = []; facts = ([]); locals = []; items = ([]) }) }) (record { temps = (name_s ∷ name_t ∷ name_i ∷ name_x1 ∷ name_d0 ∷ name_p1 ∷ name_q1 ∷ []); body = (c.Then (c.Set 0 (c.Const 1)) (c.Then (c.Set 1 (c.Const 3)) (c.Then (c.Store (root.Global name_arr 4) (c.Index kind.Signed (c.Const 3) c.Here) (c.Temp 1)) (c.Then (c.Load 1 (root.Global name_arr 4) (c.Index kind.Signed (c.Const 3) c.Here)) (c.Then (c.Set 0 (c.Binary two.Mul kind.Signed (c.Const 1) (c.Const 1))) (c.Then (c.Call (Some 1) name_pos ((c.Const 2) ∷ [])) (c.Then (c.Set 4 (c.Const 1)) (c.Then (c.Set 1 (c.Binary two.Add kind.Signed (c.Binary two.Add kind.Signed (c.Const 3) (c.Temp 1)) (c.Const 2))) (c.Then (c.Return (Some (c.Temp 0))) c.End))))))))) }) (s.Then 1 (s.Block 2 (record { opened = []; facts = ([]); locals = ((name_s, (Of unary.Vi (Number (pos 1)))) ∷ (name_t, (Of unary.Vi (Number (pos 3)))) ∷ []); items = ((Data (Number (pos 64)) (Global name_arr) (Of2 binary.Cons (Of unary.Vi (Number (pos 1))) (Of2 binary.Cons (Of unary.Vi (Number (pos 2))) (Of2 binary.Cons (Of unary.Vi (Number (pos 0))) (Of2 binary.Cons (Of unary.Vi (Number (pos 0))) Nil))))) ∷ []) }) ([]) ([])) (s.WithBlock (s.Then 2 (s.Set ([]) ([])) s.NoBlock (s.Then 3 (s.Set ([]) ([])) s.NoBlock (s.Then 4 (s.Fall ([]) ([])) s.NoBlock s.End))) s.NoBlock) (s.Then 5 (s.Store 0 ([]) ([])) s.NoBlock (s.Then 6 (s.Load 0 ([]) ([])) s.NoBlock (s.Then 7 (s.Share 0 (Number (pos 16)) ([])) s.NoBlock (s.Then 8 (s.Cut 1 (Of2 binary.Cons (Of unary.Vi (Number (pos 1))) (Of2 binary.Cons (Of unary.Vi (Number (pos 2))) Nil)) (Of2 binary.Cons (Of unary.Vi (Number (pos 0))) (Of2 binary.Cons (Of unary.Vi (Number (pos 3))) Nil))) s.NoBlock (s.Then 9 (s.Glue 1 2) s.NoBlock (s.Then 10 (s.Set ([]) ([])) s.NoBlock (s.Then 11 (s.Call ((Number (pos 2)) ∷ []) ([]) ([]) (name_k1 ∷ name_k2 ∷ [])) s.NoBlock (s.Then 12 (s.Naming name_k3 (Of unary.Vi (Number (pos 1)))) s.NoBlock (s.Then 13 (s.Naming name_k4 (Global name_k3)) s.NoBlock (s.Then 14 (s.Set ([]) ([])) s.NoBlock (s.Then 15 (s.Set ([]) ([])) s.NoBlock s.End)))))))))))) ≡ (RefusedAt 15 2 2)
unfolding computing
random_884 = refl

random_885 : body_verdict (record { predicates = ([]); specs = ((record { is_void = false; name = name_main; params = ([]); vars = []; pre = (record { opened = []; facts = ([]); locals = []; items = ((Data (Number (pos 64)) (Global name_g) (Of2 binary.Cons (Of unary.Vi (Number (pos 3))) Nil)) ∷ (Data (Number (pos 64)) (Global name_x) (Of2 binary.Cons (Of unary.Vi (Number (pos 3))) Nil)) ∷ (Data (Number (pos 64)) (Global name_arr) (Of2 binary.Cons (Of unary.Vi (Number (pos 1))) (Of2 binary.Cons (Of unary.Vi (Number (pos 2))) (Of2 binary.Cons (Of unary.Vi (Number (pos 0))) (Of2 binary.Cons (Of unary.Vi (Number (pos 0))) Nil))))) ∷ []) }); post = (record { opened = []; facts = ((Rel relation.Eq (Var 0 sort.Val) (Of unary.Vi (Number (pos 5)))) ∷ []); locals = []; items = ((Data (Number (pos 64)) (Global name_g) (Of2 binary.Cons (Of unary.Vi (Number (pos 3))) Nil)) ∷ (Data (Number (pos 64)) (Global name_x) (Of2 binary.Cons (Of unary.Vi (Number (pos 3))) Nil)) ∷ (Data (Number (pos 64)) (Global name_arr) (Of2 binary.Cons (Of unary.Vi (Number (pos 1))) (Of2 binary.Cons (Of unary.Vi (Number (pos 2))) (Of2 binary.Cons (Of unary.Vi (Number (pos 0))) (Of2 binary.Cons (Of unary.Vi (Number (pos 0))) Nil))))) ∷ []) }) }) ∷ []) }) (record { is_void = false; name = name_main; params = ([]); vars = []; pre = (record { opened = []; facts = ([]); locals = []; items = ((Data (Number (pos 64)) (Global name_g) (Of2 binary.Cons (Of unary.Vi (Number (pos 3))) Nil)) ∷ (Data (Number (pos 64)) (Global name_x) (Of2 binary.Cons (Of unary.Vi (Number (pos 3))) Nil)) ∷ (Data (Number (pos 64)) (Global name_arr) (Of2 binary.Cons (Of unary.Vi (Number (pos 1))) (Of2 binary.Cons (Of unary.Vi (Number (pos 2))) (Of2 binary.Cons (Of unary.Vi (Number (pos 0))) (Of2 binary.Cons (Of unary.Vi (Number (pos 0))) Nil))))) ∷ []) }); post = (record { opened = []; facts = ((Rel relation.Eq (Var 0 sort.Val) (Of unary.Vi (Number (pos 5)))) ∷ []); locals = []; items = ((Data (Number (pos 64)) (Global name_g) (Of2 binary.Cons (Of unary.Vi (Number (pos 3))) Nil)) ∷ (Data (Number (pos 64)) (Global name_x) (Of2 binary.Cons (Of unary.Vi (Number (pos 3))) Nil)) ∷ (Data (Number (pos 64)) (Global name_arr) (Of2 binary.Cons (Of unary.Vi (Number (pos 1))) (Of2 binary.Cons (Of unary.Vi (Number (pos 2))) (Of2 binary.Cons (Of unary.Vi (Number (pos 0))) (Of2 binary.Cons (Of unary.Vi (Number (pos 0))) Nil))))) ∷ []) }) }) (record { temps = (name_s ∷ name_t ∷ name_i ∷ name_x1 ∷ name_d0 ∷ name_p1 ∷ name_q1 ∷ []); body = (c.Then (c.Set 0 (c.Const 3)) (c.Then (c.Set 1 (c.Const 3)) (c.Then (c.Set 3 (c.Binary two.Add kind.Unsigned (c.Const 4294967295) (c.Const 1))) (c.Then (c.Set 0 (c.Binary two.Sub kind.Signed (c.Temp 0) (c.Const 2))) (c.Then (c.Return (Some (c.Binary two.Add kind.Signed (c.Const 2) (c.Const 3)))) c.End))))) }) (s.Then 1 (s.Set ([]) ([])) s.NoBlock (s.Then 2 (s.Set ([]) ([])) s.NoBlock (s.Then 3 (s.Set ([]) ([])) s.NoBlock (s.Then 4 (s.Set ([]) ([])) s.NoBlock (s.Then 5 (s.Return ([]) ([]) ([])) s.NoBlock s.End))))) ≡ Accepted
unfolding computing
random_885 = refl

random_886 : body_verdict (record { predicates = ([]); specs = ((record { is_void = false; name = name_main; params = ([]); vars = []; pre = (record { opened = []; facts = ([]); locals = []; items = ((Data (Number (pos 64)) (Global name_g) (Of2 binary.Cons (Of unary.Vi (Number (pos 3))) Nil)) ∷ (Data (Number (pos 64)) (Global name_x) (Of2 binary.Cons (Of unary.Vi (Number (pos 3))) Nil)) ∷ (Data (Number (pos 64)) (Global name_arr) (Of2 binary.Cons (Of unary.Vi (Number (pos 1))) (Of2 binary.Cons (Of unary.Vi (Number (pos 2))) (Of2 binary.Cons (Of unary.Vi (Number (pos 0))) (Of2 binary.Cons (Of unary.Vi (Number (pos 0))) Nil))))) ∷ []) }); post = (record { opened = []; facts = ((Rel relation.Eq (Var 0 sort.Val) (Of unary.Vi (Number (pos 5)))) ∷ []); locals = []; items = ((Data (Number (pos 64)) (Global name_g) (Of2 binary.Cons (Of unary.Vi (Number (pos 3))) Nil)) ∷ (Data (Number (pos 64)) (Global name_x) (Of2 binary.Cons (Of unary.Vi (Number (pos 3))) Nil)) ∷ (Data (Number (pos 64)) (Global name_arr) (Of2 binary.Cons (Of unary.Vi (Number (pos 1))) (Of2 binary.Cons (Of unary.Vi (Number (pos 2))) (Of2 binary.Cons (Of unary.Vi (Number (pos 0))) (Of2 binary.Cons (Of unary.Vi (Number (pos 0))) Nil))))) ∷ []) }) }) ∷ []) }) (record { is_void = false; name = name_main; params = ([]); vars = []; pre = (record { opened = []; facts = ([]); locals = []; items = ((Data (Number (pos 64)) (Global name_g) (Of2 binary.Cons (Of unary.Vi (Number (pos 3))) Nil)) ∷ (Data (Number (pos 64)) (Global name_x) (Of2 binary.Cons (Of unary.Vi (Number (pos 3))) Nil)) ∷ (Data (Number (pos 64)) (Global name_arr) (Of2 binary.Cons (Of unary.Vi (Number (pos 1))) (Of2 binary.Cons (Of unary.Vi (Number (pos 2))) (Of2 binary.Cons (Of unary.Vi (Number (pos 0))) (Of2 binary.Cons (Of unary.Vi (Number (pos 0))) Nil))))) ∷ []) }); post = (record { opened = []; facts = ((Rel relation.Eq (Var 0 sort.Val) (Of unary.Vi (Number (pos 5)))) ∷ []); locals = []; items = ((Data (Number (pos 64)) (Global name_g) (Of2 binary.Cons (Of unary.Vi (Number (pos 3))) Nil)) ∷ (Data (Number (pos 64)) (Global name_x) (Of2 binary.Cons (Of unary.Vi (Number (pos 3))) Nil)) ∷ (Data (Number (pos 64)) (Global name_arr) (Of2 binary.Cons (Of unary.Vi (Number (pos 1))) (Of2 binary.Cons (Of unary.Vi (Number (pos 2))) (Of2 binary.Cons (Of unary.Vi (Number (pos 0))) (Of2 binary.Cons (Of unary.Vi (Number (pos 0))) Nil))))) ∷ []) }) }) (record { temps = (name_s ∷ name_t ∷ name_i ∷ name_x1 ∷ name_d0 ∷ name_p1 ∷ name_q1 ∷ []); body = (c.Then (c.Set 0 (c.Const 3)) (c.Then (c.Set 1 (c.Const 3)) (c.Then (c.Set 3 (c.Binary two.Add kind.Unsigned (c.Const 4294967295) (c.Const 1))) (c.Then (c.Set 0 (c.Binary two.Sub kind.Signed (c.Temp 0) (c.Const 2))) (c.Then (c.Return (Some (c.Binary two.Add kind.Signed (c.Const 2) (c.Const 3)))) c.End))))) }) (s.Then 1 (s.Return ([]) ([]) ([])) s.NoBlock (s.Then 2 (s.Set ([]) ([])) s.NoBlock (s.Then 3 (s.Set ([]) ([])) s.NoBlock (s.Then 4 (s.Set ([]) ([])) s.NoBlock (s.Then 5 (s.Set ([]) ([])) s.NoBlock s.End))))) ≡ (RefusedAt 1 9 1)
unfolding computing
random_886 = refl

random_887 : body_verdict (record { predicates = ([]); specs = ((record { is_void = false; name = name_main; params = ([]); vars = []; pre = (record { opened = []; facts = ([]); locals = []; items = ((Data (Number (pos 64)) (Global name_g) (Of2 binary.Cons (Of unary.Vi (Number (pos 3))) Nil)) ∷ (Data (Number (pos 64)) (Global name_x) (Of2 binary.Cons (Of unary.Vi (Number (pos 3))) Nil)) ∷ (Data (Number (pos 64)) (Global name_arr) (Of2 binary.Cons (Of unary.Vi (Number (pos 1))) (Of2 binary.Cons (Of unary.Vi (Number (pos 2))) (Of2 binary.Cons (Of unary.Vi (Number (pos 0))) (Of2 binary.Cons (Of unary.Vi (Number (pos 0))) Nil))))) ∷ []) }); post = (record { opened = []; facts = ((Rel relation.Eq (Var 0 sort.Val) (Of unary.Vi (Number (pos 5)))) ∷ []); locals = []; items = ((Data (Number (pos 64)) (Global name_g) (Of2 binary.Cons (Of unary.Vi (Number (pos 3))) Nil)) ∷ (Data (Number (pos 64)) (Global name_x) (Of2 binary.Cons (Of unary.Vi (Number (pos 3))) Nil)) ∷ (Data (Number (pos 64)) (Global name_arr) (Of2 binary.Cons (Of unary.Vi (Number (pos 1))) (Of2 binary.Cons (Of unary.Vi (Number (pos 2))) (Of2 binary.Cons (Of unary.Vi (Number (pos 0))) (Of2 binary.Cons (Of unary.Vi (Number (pos 0))) Nil))))) ∷ []) }) }) ∷ []) }) (record { is_void = false; name = name_main; params = ([]); vars = []; pre = (record { opened = []; facts = ([]); locals = []; items = ((Data (Number (pos 64)) (Global name_g) (Of2 binary.Cons (Of unary.Vi (Number (pos 3))) Nil)) ∷ (Data (Number (pos 64)) (Global name_x) (Of2 binary.Cons (Of unary.Vi (Number (pos 3))) Nil)) ∷ (Data (Number (pos 64)) (Global name_arr) (Of2 binary.Cons (Of unary.Vi (Number (pos 1))) (Of2 binary.Cons (Of unary.Vi (Number (pos 2))) (Of2 binary.Cons (Of unary.Vi (Number (pos 0))) (Of2 binary.Cons (Of unary.Vi (Number (pos 0))) Nil))))) ∷ []) }); post = (record { opened = []; facts = ((Rel relation.Eq (Var 0 sort.Val) (Of unary.Vi (Number (pos 5)))) ∷ []); locals = []; items = ((Data (Number (pos 64)) (Global name_g) (Of2 binary.Cons (Of unary.Vi (Number (pos 3))) Nil)) ∷ (Data (Number (pos 64)) (Global name_x) (Of2 binary.Cons (Of unary.Vi (Number (pos 3))) Nil)) ∷ (Data (Number (pos 64)) (Global name_arr) (Of2 binary.Cons (Of unary.Vi (Number (pos 1))) (Of2 binary.Cons (Of unary.Vi (Number (pos 2))) (Of2 binary.Cons (Of unary.Vi (Number (pos 0))) (Of2 binary.Cons (Of unary.Vi (Number (pos 0))) Nil))))) ∷ []) }) }) (record { temps = (name_s ∷ name_t ∷ name_i ∷ name_x1 ∷ name_d0 ∷ name_p1 ∷ name_q1 ∷ []); body = (c.Then (c.Set 0 (c.Const 3)) (c.Then (c.Set 1 (c.Const 3)) (c.Then (c.Set 3 (c.Binary two.Add kind.Unsigned (c.Const 4294967295) (c.Const 1))) (c.Then (c.Set 0 (c.Binary two.Sub kind.Signed (c.Temp 0) (c.Const 2))) (c.Then (c.Return (Some (c.Binary two.Add kind.Signed (c.Const 2) (c.Const 3)))) c.End))))) }) (s.Then 1 (s.Set ([]) ([])) s.NoBlock (s.Then 2 (s.Set ([]) ([])) s.NoBlock (s.Then 3 (s.Set ([]) ([])) s.NoBlock (s.Then 4 (s.Return ([]) ([]) ([])) s.NoBlock s.End)))) ≡ (RefusedAt 4 9 1)
unfolding computing
random_887 = refl

random_888 : body_verdict (record { predicates = ([]); specs = ((record { is_void = false; name = name_main; params = ([]); vars = []; pre = (record { opened = []; facts = ([]); locals = []; items = ((Data (Number (pos 64)) (Global name_g) (Of2 binary.Cons (Of unary.Vi (Number (pos 3))) Nil)) ∷ (Data (Number (pos 64)) (Global name_x) (Of2 binary.Cons (Of unary.Vi (Number (pos 3))) Nil)) ∷ (Data (Number (pos 64)) (Global name_arr) (Of2 binary.Cons (Of unary.Vi (Number (pos 1))) (Of2 binary.Cons (Of unary.Vi (Number (pos 2))) (Of2 binary.Cons (Of unary.Vi (Number (pos 0))) (Of2 binary.Cons (Of unary.Vi (Number (pos 0))) Nil))))) ∷ []) }); post = (record { opened = []; facts = ((Rel relation.Eq (Var 0 sort.Val) (Of unary.Vi (Number (pos 5)))) ∷ []); locals = []; items = ((Data (Number (pos 64)) (Global name_g) (Of2 binary.Cons (Of unary.Vi (Number (pos 3))) Nil)) ∷ (Data (Number (pos 64)) (Global name_x) (Of2 binary.Cons (Of unary.Vi (Number (pos 3))) Nil)) ∷ (Data (Number (pos 64)) (Global name_arr) (Of2 binary.Cons (Of unary.Vi (Number (pos 1))) (Of2 binary.Cons (Of unary.Vi (Number (pos 2))) (Of2 binary.Cons (Of unary.Vi (Number (pos 0))) (Of2 binary.Cons (Of unary.Vi (Number (pos 0))) Nil))))) ∷ []) }) }) ∷ []) }) (record { is_void = false; name = name_main; params = ([]); vars = []; pre = (record { opened = []; facts = ([]); locals = []; items = ((Data (Number (pos 64)) (Global name_g) (Of2 binary.Cons (Of unary.Vi (Number (pos 3))) Nil)) ∷ (Data (Number (pos 64)) (Global name_x) (Of2 binary.Cons (Of unary.Vi (Number (pos 3))) Nil)) ∷ (Data (Number (pos 64)) (Global name_arr) (Of2 binary.Cons (Of unary.Vi (Number (pos 1))) (Of2 binary.Cons (Of unary.Vi (Number (pos 2))) (Of2 binary.Cons (Of unary.Vi (Number (pos 0))) (Of2 binary.Cons (Of unary.Vi (Number (pos 0))) Nil))))) ∷ []) }); post = (record { opened = []; facts = ((Rel relation.Eq (Var 0 sort.Val) (Of unary.Vi (Number (pos 5)))) ∷ []); locals = []; items = ((Data (Number (pos 64)) (Global name_g) (Of2 binary.Cons (Of unary.Vi (Number (pos 3))) Nil)) ∷ (Data (Number (pos 64)) (Global name_x) (Of2 binary.Cons (Of unary.Vi (Number (pos 3))) Nil)) ∷ (Data (Number (pos 64)) (Global name_arr) (Of2 binary.Cons (Of unary.Vi (Number (pos 1))) (Of2 binary.Cons (Of unary.Vi (Number (pos 2))) (Of2 binary.Cons (Of unary.Vi (Number (pos 0))) (Of2 binary.Cons (Of unary.Vi (Number (pos 0))) Nil))))) ∷ []) }) }) (record { temps = (name_s ∷ name_t ∷ name_i ∷ name_x1 ∷ name_d0 ∷ name_p1 ∷ name_q1 ∷ []); body = (c.Then (c.Set 0 (c.Const 3)) (c.Then (c.Set 1 (c.Const 3)) (c.Then (c.Set 3 (c.Binary two.Add kind.Unsigned (c.Const 4294967295) (c.Const 1))) (c.Then (c.Set 0 (c.Binary two.Sub kind.Signed (c.Temp 0) (c.Const 2))) (c.Then (c.Return (Some (c.Binary two.Add kind.Signed (c.Const 2) (c.Const 2)))) c.End))))) }) (s.Then 1 (s.Set ([]) ([])) s.NoBlock (s.Then 2 (s.Set ([]) ([])) s.NoBlock (s.Then 3 (s.Set ([]) ([])) s.NoBlock (s.Then 4 (s.Set ([]) ([])) s.NoBlock (s.Then 5 (s.Return ([]) ([]) ([])) s.NoBlock s.End))))) ≡ (RefusedAt 5 9 3)
unfolding computing
random_888 = refl

random_889 : body_verdict (record { predicates = ([]); specs = ((record { is_void = false; name = name_main; params = ([]); vars = []; pre = (record { opened = []; facts = ([]); locals = []; items = ((Data (Number (pos 64)) (Global name_g) (Of2 binary.Cons (Of unary.Vi (Number (pos 3))) Nil)) ∷ (Data (Number (pos 64)) (Global name_x) (Of2 binary.Cons (Of unary.Vi (Number (pos 3))) Nil)) ∷ (Data (Number (pos 64)) (Global name_arr) (Of2 binary.Cons (Of unary.Vi (Number (pos 1))) (Of2 binary.Cons (Of unary.Vi (Number (pos 2))) (Of2 binary.Cons (Of unary.Vi (Number (pos 0))) (Of2 binary.Cons (Of unary.Vi (Number (pos 0))) Nil))))) ∷ []) }); post = (record { opened = []; facts = ((Rel relation.Eq (Var 0 sort.Val) (Of unary.Vi (Number (pos 5)))) ∷ []); locals = []; items = ((Data (Number (pos 64)) (Global name_g) (Of2 binary.Cons (Of unary.Vi (Number (pos 3))) Nil)) ∷ (Data (Number (pos 64)) (Global name_x) (Of2 binary.Cons (Of unary.Vi (Number (pos 3))) Nil)) ∷ (Data (Number (pos 64)) (Global name_arr) (Of2 binary.Cons (Of unary.Vi (Number (pos 1))) (Of2 binary.Cons (Of unary.Vi (Number (pos 2))) (Of2 binary.Cons (Of unary.Vi (Number (pos 0))) (Of2 binary.Cons (Of unary.Vi (Number (pos 0))) Nil))))) ∷ []) }) }) ∷ []) }) (record { is_void = false; name = name_main; params = ([]); vars = []; pre = (record { opened = []; facts = ([]); locals = []; items = ((Data (Number (pos 64)) (Global name_g) (Of2 binary.Cons (Of unary.Vi (Number (pos 3))) Nil)) ∷ (Data (Number (pos 64)) (Global name_x) (Of2 binary.Cons (Of unary.Vi (Number (pos 3))) Nil)) ∷ (Data (Number (pos 64)) (Global name_arr) (Of2 binary.Cons (Of unary.Vi (Number (pos 1))) (Of2 binary.Cons (Of unary.Vi (Number (pos 2))) (Of2 binary.Cons (Of unary.Vi (Number (pos 0))) (Of2 binary.Cons (Of unary.Vi (Number (pos 0))) Nil))))) ∷ []) }); post = (record { opened = []; facts = ((Rel relation.Eq (Var 0 sort.Val) (Of unary.Vi (Number (pos 5)))) ∷ []); locals = []; items = ((Data (Number (pos 64)) (Global name_g) (Of2 binary.Cons (Of unary.Vi (Number (pos 3))) Nil)) ∷ (Data (Number (pos 64)) (Global name_x) (Of2 binary.Cons (Of unary.Vi (Number (pos 3))) Nil)) ∷ (Data (Number (pos 64)) (Global name_arr) (Of2 binary.Cons (Of unary.Vi (Number (pos 1))) (Of2 binary.Cons (Of unary.Vi (Number (pos 2))) (Of2 binary.Cons (Of unary.Vi (Number (pos 0))) (Of2 binary.Cons (Of unary.Vi (Number (pos 0))) Nil))))) ∷ []) }) }) (record { temps = (name_s ∷ name_t ∷ name_i ∷ name_x1 ∷ name_d0 ∷ name_p1 ∷ name_q1 ∷ []); body = (c.Then (c.Set 0 (c.Const 3)) (c.Then (c.Set 1 (c.Const 3)) (c.Then (c.Set 3 (c.Binary two.Add kind.Unsigned (c.Const 4294967295) (c.Const 1))) (c.Then (c.Set 0 (c.Binary two.Sub kind.Signed (c.Temp 0) (c.Const 2))) (c.Then (c.Return (Some (c.Binary two.Add kind.Signed (c.Const 2) (c.Const 3)))) c.End))))) }) (s.Then 1 (s.Set ([]) ([])) s.NoBlock (s.Then 2 (s.Set ([]) ([])) s.NoBlock (s.Then 3 (s.Set ([]) ([])) s.NoBlock (s.Then 4 (s.Set ([]) ([])) s.NoBlock (s.Then 5 (s.Call ([]) ([]) ([]) ([])) s.NoBlock s.End))))) ≡ (RefusedAt 5 13 1)
unfolding computing
random_889 = refl

random_890 : body_verdict (record { predicates = ([]); specs = ((record { is_void = false; name = name_main; params = ([]); vars = []; pre = (record { opened = []; facts = ([]); locals = []; items = ((Data (Number (pos 64)) (Global name_g) (Of2 binary.Cons (Of unary.Vi (Number (pos 3))) Nil)) ∷ (Data (Number (pos 64)) (Global name_x) (Of2 binary.Cons (Of unary.Vi (Number (pos 3))) Nil)) ∷ (Data (Number (pos 64)) (Global name_arr) (Of2 binary.Cons (Of unary.Vi (Number (pos 1))) (Of2 binary.Cons (Of unary.Vi (Number (pos 2))) (Of2 binary.Cons (Of unary.Vi (Number (pos 0))) (Of2 binary.Cons (Of unary.Vi (Number (pos 0))) Nil))))) ∷ []) }); post = (record { opened = []; facts = ((Rel relation.Eq (Var 0 sort.Val) (Of unary.Vi (Number (pos 5)))) ∷ []); locals = []; items = ((Data (Number (pos 64)) (Global name_g) (Of2 binary.Cons (Of unary.Vi (Number (pos 3))) Nil)) ∷ (Data (Number (pos 64)) (Global name_x) (Of2 binary.Cons (Of unary.Vi (Number (pos 3))) Nil)) ∷ (Data (Number (pos 64)) (Global name_arr) (Of2 binary.Cons (Of unary.Vi (Number (pos 1))) (Of2 binary.Cons (Of unary.Vi (Number (pos 2))) (Of2 binary.Cons (Of unary.Vi (Number (pos 0))) (Of2 binary.Cons (Of unary.Vi (Number (pos 0))) Nil))))) ∷ []) }) }) ∷ []) }) (record { is_void = false; name = name_main; params = ([]); vars = []; pre = (record { opened = []; facts = ([]); locals = []; items = ((Data (Number (pos 64)) (Global name_g) (Of2 binary.Cons (Of unary.Vi (Number (pos 3))) Nil)) ∷ (Data (Number (pos 64)) (Global name_x) (Of2 binary.Cons (Of unary.Vi (Number (pos 3))) Nil)) ∷ (Data (Number (pos 64)) (Global name_arr) (Of2 binary.Cons (Of unary.Vi (Number (pos 1))) (Of2 binary.Cons (Of unary.Vi (Number (pos 2))) (Of2 binary.Cons (Of unary.Vi (Number (pos 0))) (Of2 binary.Cons (Of unary.Vi (Number (pos 0))) Nil))))) ∷ []) }); post = (record { opened = []; facts = ((Rel relation.Eq (Var 0 sort.Val) (Of unary.Vi (Number (pos 5)))) ∷ []); locals = []; items = ((Data (Number (pos 64)) (Global name_g) (Of2 binary.Cons (Of unary.Vi (Number (pos 3))) Nil)) ∷ (Data (Number (pos 64)) (Global name_x) (Of2 binary.Cons (Of unary.Vi (Number (pos 3))) Nil)) ∷ (Data (Number (pos 64)) (Global name_arr) (Of2 binary.Cons (Of unary.Vi (Number (pos 1))) (Of2 binary.Cons (Of unary.Vi (Number (pos 2))) (Of2 binary.Cons (Of unary.Vi (Number (pos 0))) (Of2 binary.Cons (Of unary.Vi (Number (pos 0))) Nil))))) ∷ []) }) }) (record { temps = (name_s ∷ name_t ∷ name_i ∷ name_x1 ∷ name_d0 ∷ name_p1 ∷ name_q1 ∷ []); body = (c.Then (c.Set 0 (c.Const 3)) (c.Then (c.Set 1 (c.Const 3)) (c.Then (c.Set 3 (c.Binary two.Add kind.Unsigned (c.Const 4294967295) (c.Const 1))) (c.Then (c.Set 0 (c.Binary two.Sub kind.Signed (c.Temp 0) (c.Const 2))) (c.Then (c.Return (Some (c.Binary two.Add kind.Signed (c.Const 2) (c.Const 3)))) c.End))))) }) (s.Then 1 (s.Set ([]) ([])) s.NoBlock (s.Then 2 (s.Set ([]) ([])) s.NoBlock (s.Then 3 (s.Return ([]) ([]) ([])) s.NoBlock (s.Then 4 (s.Set ([]) ([])) s.NoBlock (s.Then 5 (s.Set ([]) ([])) s.NoBlock s.End))))) ≡ (RefusedAt 3 9 1)
unfolding computing
random_890 = refl

random_891 : body_verdict (record { predicates = ((record { name = name_ov; args = ([]); cases = ((record { opened = (sort.Val ∷ []); facts = ([]); locals = []; items = ((Data (Number (pos 64)) (Global name_x) (Of2 binary.Cons (Var 0 sort.Val) Nil)) ∷ []) }) ∷ []) }) ∷ []); specs = ((record { is_void = true; name = name_nop; params = ([]); vars = []; pre = (record { opened = []; facts = ([]); locals = []; items = ([]) }); post = (record { opened = []; facts = ([]); locals = []; items = ([]) }) }) ∷ (record { is_void = false; name = name_pos; params = (name_n ∷ []); vars = ((name_a, sort.Int) ∷ []); pre = (record { opened = []; facts = ((Rel relation.Le (Number (pos 0)) (Var 0 sort.Int)) ∷ (Rel relation.Le (Var 0 sort.Int) (Number (pos 100))) ∷ []); locals = ((name_n, (Of unary.Vi (Var 0 sort.Int))) ∷ []); items = ([]) }); post = (record { opened = (sort.Int ∷ []); facts = ((Rel relation.Eq (Var 1 sort.Val) (Of unary.Vi (Var 2 sort.Int))) ∷ (Rel relation.Le (Number (pos 0)) (Var 2 sort.Int)) ∷ (Rel relation.Le (Var 2 sort.Int) (Var 0 sort.Int)) ∷ []); locals = []; items = ([]) }) }) ∷ (record { is_void = false; name = name_main; params = ([]); vars = []; pre = (record { opened = []; facts = ([]); locals = []; items = ((Data (Number (pos 64)) (Global name_arr) (Of2 binary.Cons (Of unary.Vi (Number (pos 1))) (Of2 binary.Cons (Of unary.Vi (Number (pos 2))) (Of2 binary.Cons (Of unary.Vi (Number (pos 0))) (Of2 binary.Cons (Of unary.Vi (Number (pos 0))) Nil))))) ∷ (Data (Number (pos 64)) (Global name_x) (Of2 binary.Cons (Of unary.Vi (Number (pos 3))) Nil)) ∷ (Data (Number (pos 64)) (Global name_l) (Of2 binary.Cons (Of unary.Vi (Number (pos 0))) Nil)) ∷ []) }); post = (record { opened = (sort.List ∷ []); facts = ([]); locals = []; items = ((Data (Number (pos 64)) (Global name_arr) (Of2 binary.Cons (Of unary.Vi (Number (pos 1))) (Of2 binary.Cons (Of unary.Vi (Number (pos 2))) (Of2 binary.Cons (Of unary.Vi (Number (pos 0))) (Of2 binary.Cons (Of unary.Vi (Number (pos 0))) Nil))))) ∷ (Data (Number (pos 64)) (Global name_x) (Var 1 sort.List)) ∷ (Data (Number (pos 64)) (Global name_l) (Of2 binary.Cons Undef Nil)) ∷ []) }) }) ∷ []) }) (record { is_void = false; name = name_main; params = ([]); vars = []; pre = (record { opened = []; facts = ([]); locals = []; items = ((Data (Number (pos 64)) (Global name_arr) (Of2 binary.Cons (Of unary.Vi (Number (pos 1))) (Of2 binary.Cons (Of unary.Vi (Number (pos 2))) (Of2 binary.Cons (Of unary.Vi (Number (pos 0))) (Of2 binary.Cons (Of unary.Vi (Number (pos 0))) Nil))))) ∷ (Data (Number (pos 64)) (Global name_x) (Of2 binary.Cons (Of unary.Vi (Number (pos 3))) Nil)) ∷ (Data (Number (pos 64)) (Global name_l) (Of2 binary.Cons (Of unary.Vi (Number (pos 0))) Nil)) ∷ []) }); post = (record { opened = (sort.List ∷ []); facts = ([]); locals = []; items = ((Data (Number (pos 64)) (Global name_arr) (Of2 binary.Cons (Of unary.Vi (Number (pos 1))) (Of2 binary.Cons (Of unary.Vi (Number (pos 2))) (Of2 binary.Cons (Of unary.Vi (Number (pos 0))) (Of2 binary.Cons (Of unary.Vi (Number (pos 0))) Nil))))) ∷ (Data (Number (pos 64)) (Global name_x) (Var 1 sort.List)) ∷ (Data (Number (pos 64)) (Global name_l) (Of2 binary.Cons Undef Nil)) ∷ []) }) }) (record { temps = (name_s ∷ name_t ∷ name_i ∷ name_x1 ∷ name_d0 ∷ name_p1 ∷ name_q1 ∷ []); body = (c.Then (c.Set 0 (c.Const 0)) (c.Then (c.OnLock lock.Make (c.Address (root.Global name_l 1) c.Here)) (c.Then (c.OnLock lock.Release (c.Address (root.Global name_l 1) c.Here)) (c.Then (c.Load 1 (root.Global name_arr 4) (c.Index kind.Signed (c.Const 1) c.Here)) (c.Then (c.Call None name_nop ([])) (c.Then (c.Call (Some 1) name_pos ((c.Const 3) ∷ [])) (c.Then (c.OnLock lock.Acquire (c.Address (root.Global name_l 1) c.Here)) (c.Then (c.Load 1 (root.Global name_x 1) c.Here) (c.Then (c.Store (root.Global name_x 1) c.Here (c.Temp 1)) (c.Then (c.OnLock lock.Release (c.Address (root.Global name_l 1) c.Here)) (c.Then (c.OnLock lock.Acquire (c.Address (root.Global name_l 1) c.Here)) (c.Then (c.OnLock lock.Free (c.Address (root.Global name_l 1) c.Here)) (c.Then (c.Return (Some (c.Temp 1))) c.End))))))))))))) }) (s.Then 1 (s.Set ([]) ([])) s.NoBlock (s.Then 2 (s.MakeLock 2 (record { name = name_ov; args = ([]) }) ([]) ([])) s.NoBlock (s.Then 3 (s.Fold name_ov 0 ([]) ((Of unary.Vi (Number (pos 3))) ∷ []) ([])) s.NoBlock (s.Then 4 (s.Release 2 3 ([])) s.NoBlock (s.Then 5 (s.Load 0 ([]) ([])) s.NoBlock (s.Then 6 (s.Call ([]) ([]) ([]) ([])) s.NoBlock (s.Then 7 (s.Call ((Number (pos 3)) ∷ []) ([]) ([]) (name_k1 ∷ name_k2 ∷ [])) s.NoBlock (s.Then 8 (s.Acquire 1 ([])) s.NoBlock (s.Then 9 (s.Unfold 3 ((name_k3 ∷ []) ∷ [])) (s.WithBlock (s.Then 10 (s.Load 3 ([]) ([])) s.NoBlock (s.Then 11 (s.Store 3 ([]) ([])) s.NoBlock (s.Then 12 (s.Fold name_ov 0 ([]) ((Named name_k3) ∷ []) ([])) s.NoBlock (s.Then 13 (s.Release 2 3 ([])) s.NoBlock (s.Then 14 (s.Acquire 1 ([])) s.NoBlock (s.Then 15 (s.Unfold 3 ((name_k4 ∷ []) ∷ [])) (s.WithBlock (s.Then 16 (s.FreeLock 1 2 ([]) ([])) s.NoBlock (s.Then 17 (s.Return ((Of2 binary.Cons (Named name_k4) Nil) ∷ []) ([]) ([])) s.NoBlock s.End)) s.NoBlock) s.End)))))) s.NoBlock) s.End))))))))) ≡ Accepted
unfolding computing
random_891 = refl

random_892 : body_verdict (record { predicates = ((record { name = name_ov; args = ([]); cases = ((record { opened = (sort.Val ∷ []); facts = ([]); locals = []; items = ((Data (Number (pos 64)) (Global name_x) (Of2 binary.Cons (Var 0 sort.Val) Nil)) ∷ []) }) ∷ []) }) ∷ []); specs = ((record { is_void = true; name = name_nop; params = ([]); vars = []; pre = (record { opened = []; facts = ([]); locals = []; items = ([]) }); post = (record { opened = []; facts = ([]); locals = []; items = ([]) }) }) ∷ (record { is_void = false; name = name_pos; params = (name_n ∷ []); vars = ((name_a, sort.Int) ∷ []); pre = (record { opened = []; facts = ((Rel relation.Le (Number (pos 0)) (Var 0 sort.Int)) ∷ (Rel relation.Le (Var 0 sort.Int) (Number (pos 100))) ∷ []); locals = ((name_n, (Of unary.Vi (Var 0 sort.Int))) ∷ []); items = ([]) }); post = (record { opened = (sort.Int ∷ []); facts = ((Rel relation.Eq (Var 1 sort.Val) (Of unary.Vi (Var 2 sort.Int))) ∷ (Rel relation.Le (Number (pos 0)) (Var 2 sort.Int)) ∷ (Rel relation.Le (Var 2 sort.Int) (Var 0 sort.Int)) ∷ []); locals = []; items = ([]) }) }) ∷ (record { is_void = false; name = name_main; params = ([]); vars = []; pre = (record { opened = []; facts = ([]); locals = []; items = ((Data (Number (pos 64)) (Global name_arr) (Of2 binary.Cons (Of unary.Vi (Number (pos 1))) (Of2 binary.Cons (Of unary.Vi (Number (pos 2))) (Of2 binary.Cons (Of unary.Vi (Number (pos 0))) (Of2 binary.Cons (Of unary.Vi (Number (pos 0))) Nil))))) ∷ (Data (Number (pos 64)) (Global name_x) (Of2 binary.Cons (Of unary.Vi (Number (pos 3))) Nil)) ∷ (Data (Number (pos 64)) (Global name_l) (Of2 binary.Cons (Of unary.Vi (Number (pos 0))) Nil)) ∷ []) }); post = (record { opened = (sort.List ∷ []); facts = ([]); locals = []; items = ((Data (Number (pos 64)) (Global name_arr) (Of2 binary.Cons (Of unary.Vi (Number (pos 1))) (Of2 binary.Cons (Of unary.Vi (Number (pos 2))) (Of2 binary.Cons (Of unary.Vi (Number (pos 0))) (Of2 binary.Cons (Of unary.Vi (Number (pos 0))) Nil))))) ∷ (Data (Number (pos 64)) (Global name_x) (Var 1 sort.List)) ∷ (Data (Number (pos 64)) (Global name_l) (Of2 binary.Cons Undef Nil)) ∷ []) }) }) ∷ []) }) (record { is_void = true; name = name_nop; params = ([]); vars = []; pre = (record { opened = []; facts = ([]); locals = []; items = ([]) }); post = (record { opened = []; facts = ([]); locals = []; items = ([]) }) }) (record { temps = ([]); body = (c.Then (c.Return None) c.End) }) (s.Then 1 (s.Return ([]) ([]) ([])) s.NoBlock s.End) ≡ Accepted
unfolding computing
random_892 = refl

random_893 : body_verdict (record { predicates = ((record { name = name_ov; args = ([]); cases = ((record { opened = (sort.Val ∷ []); facts = ([]); locals = []; items = ((Data (Number (pos 64)) (Global name_x) (Of2 binary.Cons (Var 0 sort.Val) Nil)) ∷ []) }) ∷ []) }) ∷ []); specs = ((record { is_void = true; name = name_nop; params = ([]); vars = []; pre = (record { opened = []; facts = ([]); locals = []; items = ([]) }); post = (record { opened = []; facts = ([]); locals = []; items = ([]) }) }) ∷ (record { is_void = false; name = name_pos; params = (name_n ∷ []); vars = ((name_a, sort.Int) ∷ []); pre = (record { opened = []; facts = ((Rel relation.Le (Number (pos 0)) (Var 0 sort.Int)) ∷ (Rel relation.Le (Var 0 sort.Int) (Number (pos 100))) ∷ []); locals = ((name_n, (Of unary.Vi (Var 0 sort.Int))) ∷ []); items = ([]) }); post = (record { opened = (sort.Int ∷ []); facts = ((Rel relation.Eq (Var 1 sort.Val) (Of unary.Vi (Var 2 sort.Int))) ∷ (Rel relation.Le (Number (pos 0)) (Var 2 sort.Int)) ∷ (Rel relation.Le (Var 2 sort.Int) (Var 0 sort.Int)) ∷ []); locals = []; items = ([]) }) }) ∷ (record { is_void = false; name = name_main; params = ([]); vars = []; pre = (record { opened = []; facts = ([]); locals = []; items = ((Data (Number (pos 64)) (Global name_arr) (Of2 binary.Cons (Of unary.Vi (Number (pos 1))) (Of2 binary.Cons (Of unary.Vi (Number (pos 2))) (Of2 binary.Cons (Of unary.Vi (Number (pos 0))) (Of2 binary.Cons (Of unary.Vi (Number (pos 0))) Nil))))) ∷ (Data (Number (pos 64)) (Global name_x) (Of2 binary.Cons (Of unary.Vi (Number (pos 3))) Nil)) ∷ (Data (Number (pos 64)) (Global name_l) (Of2 binary.Cons (Of unary.Vi (Number (pos 0))) Nil)) ∷ []) }); post = (record { opened = (sort.List ∷ []); facts = ([]); locals = []; items = ((Data (Number (pos 64)) (Global name_arr) (Of2 binary.Cons (Of unary.Vi (Number (pos 1))) (Of2 binary.Cons (Of unary.Vi (Number (pos 2))) (Of2 binary.Cons (Of unary.Vi (Number (pos 0))) (Of2 binary.Cons (Of unary.Vi (Number (pos 0))) Nil))))) ∷ (Data (Number (pos 64)) (Global name_x) (Var 1 sort.List)) ∷ (Data (Number (pos 64)) (Global name_l) (Of2 binary.Cons Undef Nil)) ∷ []) }) }) ∷ []) }) (record { is_void = false; name = name_pos; params = (name_n ∷ []); vars = ((name_a, sort.Int) ∷ []); pre = (record { opened = []; facts = ((Rel relation.Le (Number (pos 0)) (Var 0 sort.Int)) ∷ (Rel relation.Le (Var 0 sort.Int) (Number (pos 100))) ∷ []); locals = ((name_n, (Of unary.Vi (Var 0 sort.Int))) ∷ []); items = ([]) }); post = (record { opened = (sort.Int ∷ []); facts = ((Rel relation.Eq (Var 1 sort.Val) (Of unary.Vi (Var 2 sort.Int))) ∷ (Rel relation.Le (Number (pos 0)) (Var 2 sort.Int)) ∷ (Rel relation.Le (Var 2 sort.Int) (Var 0 sort.Int)) ∷ []); locals = []; items = ([]) }) }) (record { temps = (name_n ∷ []); body = (c.Then (c.If (c.Nonzero kind.Signed (c.Binary two.Eq kind.Signed (c.Temp 0) (c.Const 0))) (c.Then (c.Return (Some (c.Temp 0))) c.End) c.End) (c.Then (c.Return (Some (c.Const 0))) c.End)) }) (s.Then 1 (s.If ([]) ((record { lines = ((line.Comb (((pos 1), 0) ∷ ((pos 1), 2) ∷ [])) ∷ []) }) ∷ (record { lines = ((line.Comb (((pos 1), 1) ∷ ((pos 1), 2) ∷ [])) ∷ []) }) ∷ []) ([]) ([])) (s.WithBlock (s.Then 2 (s.Return ((Named name_a) ∷ []) ([]) ((record { lines = ((line.Comb (((pos 1), 4) ∷ [])) ∷ []) }) ∷ [])) s.NoBlock s.End) (s.WithBlock (s.Then 3 (s.Return ((Number (pos 0)) ∷ []) ([]) ([])) s.NoBlock s.End) s.NoBlock)) s.End) ≡ Accepted
unfolding computing
random_893 = refl

random_894 : body_verdict (record { predicates = ((record { name = name_ov; args = ([]); cases = ((record { opened = (sort.Val ∷ []); facts = ([]); locals = []; items = ((Data (Number (pos 63)) (Global name_x) (Of2 binary.Cons (Var 0 sort.Val) Nil)) ∷ []) }) ∷ []) }) ∷ []); specs = ((record { is_void = true; name = name_nop; params = ([]); vars = []; pre = (record { opened = []; facts = ([]); locals = []; items = ([]) }); post = (record { opened = []; facts = ([]); locals = []; items = ([]) }) }) ∷ (record { is_void = false; name = name_pos; params = (name_n ∷ []); vars = ((name_a, sort.Int) ∷ []); pre = (record { opened = []; facts = ((Rel relation.Le (Number (pos 0)) (Var 0 sort.Int)) ∷ (Rel relation.Le (Var 0 sort.Int) (Number (pos 100))) ∷ []); locals = ((name_n, (Of unary.Vi (Var 0 sort.Int))) ∷ []); items = ([]) }); post = (record { opened = (sort.Int ∷ []); facts = ((Rel relation.Eq (Var 1 sort.Val) (Of unary.Vi (Var 2 sort.Int))) ∷ (Rel relation.Le (Number (pos 0)) (Var 2 sort.Int)) ∷ (Rel relation.Le (Var 2 sort.Int) (Var 0 sort.Int)) ∷ []); locals = []; items = ([]) }) }) ∷ (record { is_void = false; name = name_main; params = ([]); vars = []; pre = (record { opened = []; facts = ([]); locals = []; items = ((Data (Number (pos 64)) (Global name_arr) (Of2 binary.Cons (Of unary.Vi (Number (pos 1))) (Of2 binary.Cons (Of unary.Vi (Number (pos 2))) (Of2 binary.Cons (Of unary.Vi (Number (pos 0))) (Of2 binary.Cons (Of unary.Vi (Number (pos 0))) Nil))))) ∷ (Data (Number (pos 64)) (Global name_x) (Of2 binary.Cons (Of unary.Vi (Number (pos 3))) Nil)) ∷ (Data (Number (pos 64)) (Global name_l) (Of2 binary.Cons (Of unary.Vi (Number (pos 0))) Nil)) ∷ []) }); post = (record { opened = (sort.List ∷ []); facts = ([]); locals = []; items = ((Data (Number (pos 64)) (Global name_arr) (Of2 binary.Cons (Of unary.Vi (Number (pos 1))) (Of2 binary.Cons (Of unary.Vi (Number (pos 2))) (Of2 binary.Cons (Of unary.Vi (Number (pos 0))) (Of2 binary.Cons (Of unary.Vi (Number (pos 0))) Nil))))) ∷ (Data (Number (pos 64)) (Global name_x) (Var 1 sort.List)) ∷ (Data (Number (pos 64)) (Global name_l) (Of2 binary.Cons Undef Nil)) ∷ []) }) }) ∷ []) }) (record { is_void = false; name = name_main; params = ([]); vars = []; pre = (record { opened = []; facts = ([]); locals = []; items = ((Data (Number (pos 64)) (Global name_arr) (Of2 binary.Cons (Of unary.Vi (Number (pos 1))) (Of2 binary.Cons (Of unary.Vi (Number (pos 2))) (Of2 binary.Cons (Of unary.Vi (Number (pos 0))) (Of2 binary.Cons (Of unary.Vi (Number (pos 0))) Nil))))) ∷ (Data (Number (pos 64)) (Global name_x) (Of2 binary.Cons (Of unary.Vi (Number (pos 3))) Nil)) ∷ (Data (Number (pos 64)) (Global name_l) (Of2 binary.Cons (Of unary.Vi (Number (pos 0))) Nil)) ∷ []) }); post = (record { opened = (sort.List ∷ []); facts = ([]); locals = []; items = ((Data (Number (pos 64)) (Global name_arr) (Of2 binary.Cons (Of unary.Vi (Number (pos 1))) (Of2 binary.Cons (Of unary.Vi (Number (pos 2))) (Of2 binary.Cons (Of unary.Vi (Number (pos 0))) (Of2 binary.Cons (Of unary.Vi (Number (pos 0))) Nil))))) ∷ (Data (Number (pos 64)) (Global name_x) (Var 1 sort.List)) ∷ (Data (Number (pos 64)) (Global name_l) (Of2 binary.Cons Undef Nil)) ∷ []) }) }) (record { temps = (name_s ∷ name_t ∷ name_i ∷ name_x1 ∷ name_d0 ∷ name_p1 ∷ name_q1 ∷ []); body = (c.Then (c.Set 0 (c.Const 0)) (c.Then (c.OnLock lock.Make (c.Address (root.Global name_l 1) c.Here)) (c.Then (c.OnLock lock.Release (c.Address (root.Global name_l 1) c.Here)) (c.Then (c.Load 1 (root.Global name_arr 4) (c.Index kind.Signed (c.Const 1) c.Here)) (c.Then (c.Call None name_nop ([])) (c.Then (c.Call (Some 1) name_pos ((c.Const 3) ∷ [])) (c.Then (c.OnLock lock.Acquire (c.Address (root.Global name_l 1) c.Here)) (c.Then (c.Load 1 (root.Global name_x 1) c.Here) (c.Then (c.Store (root.Global name_x 1) c.Here (c.Temp 1)) (c.Then (c.OnLock lock.Release (c.Address (root.Global name_l 1) c.Here)) (c.Then (c.OnLock lock.Acquire (c.Address (root.Global name_l 1) c.Here)) (c.Then (c.OnLock lock.Free (c.Address (root.Global name_l 1) c.Here)) (c.Then (c.Return (Some (c.Temp 1))) c.End))))))))))))) }) (s.Then 1 (s.Set ([]) ([])) s.NoBlock (s.Then 2 (s.MakeLock 2 (record { name = name_ov; args = ([]) }) ([]) ([])) s.NoBlock (s.Then 3 (s.Fold name_ov 0 ([]) ((Of unary.Vi (Number (pos 3))) ∷ []) ([])) s.NoBlock (s.Then 4 (s.Release 2 3 ([])) s.NoBlock (s.Then 5 (s.Load 0 ([]) ([])) s.NoBlock (s.Then 6 (s.Call ([]) ([]) ([]) ([])) s.NoBlock (s.Then 7 (s.Call ((Number (pos 3)) ∷ []) ([]) ([]) (name_k1 ∷ name_k2 ∷ [])) s.NoBlock (s.Then 8 (s.Acquire 1 ([])) s.NoBlock (s.Then 9 (s.Unfold 3 ((name_k3 ∷ []) ∷ [])) (s.WithBlock (s.Then 10 (s.Load 3 ([]) ([])) s.NoBlock (s.Then 11 (s.Store 3 ([]) ([])) s.NoBlock (s.Then 12 (s.Fold name_ov 0 ([]) ((Named name_k3) ∷ []) ([])) s.NoBlock (s.Then 13 (s.Release 2 3 ([])) s.NoBlock (s.Then 14 (s.Acquire 1 ([])) s.NoBlock (s.Then 15 (s.Unfold 3 ((name_k4 ∷ []) ∷ [])) (s.WithBlock (s.Then 16 (s.FreeLock 1 2 ([]) ([])) s.NoBlock (s.Then 17 (s.Return ((Of2 binary.Cons (Named name_k4) Nil) ∷ []) ([]) ([])) s.NoBlock s.End)) s.NoBlock) s.End)))))) s.NoBlock) s.End))))))))) ≡ (RefusedAt 3 21 5)
unfolding computing
random_894 = refl

random_895 : body_verdict (record { predicates = ((record { name = name_ov; args = ([]); cases = ((record { opened = (sort.Val ∷ []); facts = ([]); locals = []; items = ((Data (Number (pos 63)) (Global name_x) (Of2 binary.Cons (Var 0 sort.Val) Nil)) ∷ []) }) ∷ []) }) ∷ []); specs = ((record { is_void = true; name = name_nop; params = ([]); vars = []; pre = (record { opened = []; facts = ([]); locals = []; items = ([]) }); post = (record { opened = []; facts = ([]); locals = []; items = ([]) }) }) ∷ (record { is_void = false; name = name_pos; params = (name_n ∷ []); vars = ((name_a, sort.Int) ∷ []); pre = (record { opened = []; facts = ((Rel relation.Le (Number (pos 0)) (Var 0 sort.Int)) ∷ (Rel relation.Le (Var 0 sort.Int) (Number (pos 100))) ∷ []); locals = ((name_n, (Of unary.Vi (Var 0 sort.Int))) ∷ []); items = ([]) }); post = (record { opened = (sort.Int ∷ []); facts = ((Rel relation.Eq (Var 1 sort.Val) (Of unary.Vi (Var 2 sort.Int))) ∷ (Rel relation.Le (Number (pos 0)) (Var 2 sort.Int)) ∷ (Rel relation.Le (Var 2 sort.Int) (Var 0 sort.Int)) ∷ []); locals = []; items = ([]) }) }) ∷ (record { is_void = false; name = name_main; params = ([]); vars = []; pre = (record { opened = []; facts = ([]); locals = []; items = ((Data (Number (pos 64)) (Global name_arr) (Of2 binary.Cons (Of unary.Vi (Number (pos 1))) (Of2 binary.Cons (Of unary.Vi (Number (pos 2))) (Of2 binary.Cons (Of unary.Vi (Number (pos 0))) (Of2 binary.Cons (Of unary.Vi (Number (pos 0))) Nil))))) ∷ (Data (Number (pos 64)) (Global name_x) (Of2 binary.Cons (Of unary.Vi (Number (pos 3))) Nil)) ∷ (Data (Number (pos 64)) (Global name_l) (Of2 binary.Cons (Of unary.Vi (Number (pos 0))) Nil)) ∷ []) }); post = (record { opened = (sort.List ∷ []); facts = ([]); locals = []; items = ((Data (Number (pos 64)) (Global name_arr) (Of2 binary.Cons (Of unary.Vi (Number (pos 1))) (Of2 binary.Cons (Of unary.Vi (Number (pos 2))) (Of2 binary.Cons (Of unary.Vi (Number (pos 0))) (Of2 binary.Cons (Of unary.Vi (Number (pos 0))) Nil))))) ∷ (Data (Number (pos 64)) (Global name_x) (Var 1 sort.List)) ∷ (Data (Number (pos 64)) (Global name_l) (Of2 binary.Cons Undef Nil)) ∷ []) }) }) ∷ []) }) (record { is_void = true; name = name_nop; params = ([]); vars = []; pre = (record { opened = []; facts = ([]); locals = []; items = ([]) }); post = (record { opened = []; facts = ([]); locals = []; items = ([]) }) }) (record { temps = ([]); body = (c.Then (c.Return None) c.End) }) (s.Then 1 (s.Return ([]) ([]) ([])) s.NoBlock s.End) ≡ Accepted
unfolding computing
random_895 = refl

random_896 : body_verdict (record { predicates = ((record { name = name_ov; args = ([]); cases = ((record { opened = (sort.Val ∷ []); facts = ([]); locals = []; items = ((Data (Number (pos 63)) (Global name_x) (Of2 binary.Cons (Var 0 sort.Val) Nil)) ∷ []) }) ∷ []) }) ∷ []); specs = ((record { is_void = true; name = name_nop; params = ([]); vars = []; pre = (record { opened = []; facts = ([]); locals = []; items = ([]) }); post = (record { opened = []; facts = ([]); locals = []; items = ([]) }) }) ∷ (record { is_void = false; name = name_pos; params = (name_n ∷ []); vars = ((name_a, sort.Int) ∷ []); pre = (record { opened = []; facts = ((Rel relation.Le (Number (pos 0)) (Var 0 sort.Int)) ∷ (Rel relation.Le (Var 0 sort.Int) (Number (pos 100))) ∷ []); locals = ((name_n, (Of unary.Vi (Var 0 sort.Int))) ∷ []); items = ([]) }); post = (record { opened = (sort.Int ∷ []); facts = ((Rel relation.Eq (Var 1 sort.Val) (Of unary.Vi (Var 2 sort.Int))) ∷ (Rel relation.Le (Number (pos 0)) (Var 2 sort.Int)) ∷ (Rel relation.Le (Var 2 sort.Int) (Var 0 sort.Int)) ∷ []); locals = []; items = ([]) }) }) ∷ (record { is_void = false; name = name_main; params = ([]); vars = []; pre = (record { opened = []; facts = ([]); locals = []; items = ((Data (Number (pos 64)) (Global name_arr) (Of2 binary.Cons (Of unary.Vi (Number (pos 1))) (Of2 binary.Cons (Of unary.Vi (Number (pos 2))) (Of2 binary.Cons (Of unary.Vi (Number (pos 0))) (Of2 binary.Cons (Of unary.Vi (Number (pos 0))) Nil))))) ∷ (Data (Number (pos 64)) (Global name_x) (Of2 binary.Cons (Of unary.Vi (Number (pos 3))) Nil)) ∷ (Data (Number (pos 64)) (Global name_l) (Of2 binary.Cons (Of unary.Vi (Number (pos 0))) Nil)) ∷ []) }); post = (record { opened = (sort.List ∷ []); facts = ([]); locals = []; items = ((Data (Number (pos 64)) (Global name_arr) (Of2 binary.Cons (Of unary.Vi (Number (pos 1))) (Of2 binary.Cons (Of unary.Vi (Number (pos 2))) (Of2 binary.Cons (Of unary.Vi (Number (pos 0))) (Of2 binary.Cons (Of unary.Vi (Number (pos 0))) Nil))))) ∷ (Data (Number (pos 64)) (Global name_x) (Var 1 sort.List)) ∷ (Data (Number (pos 64)) (Global name_l) (Of2 binary.Cons Undef Nil)) ∷ []) }) }) ∷ []) }) (record { is_void = false; name = name_pos; params = (name_n ∷ []); vars = ((name_a, sort.Int) ∷ []); pre = (record { opened = []; facts = ((Rel relation.Le (Number (pos 0)) (Var 0 sort.Int)) ∷ (Rel relation.Le (Var 0 sort.Int) (Number (pos 100))) ∷ []); locals = ((name_n, (Of unary.Vi (Var 0 sort.Int))) ∷ []); items = ([]) }); post = (record { opened = (sort.Int ∷ []); facts = ((Rel relation.Eq (Var 1 sort.Val) (Of unary.Vi (Var 2 sort.Int))) ∷ (Rel relation.Le (Number (pos 0)) (Var 2 sort.Int)) ∷ (Rel relation.Le (Var 2 sort.Int) (Var 0 sort.Int)) ∷ []); locals = []; items = ([]) }) }) (record { temps = (name_n ∷ []); body = (c.Then (c.If (c.Nonzero kind.Signed (c.Binary two.Eq kind.Signed (c.Temp 0) (c.Const 0))) (c.Then (c.Return (Some (c.Temp 0))) c.End) c.End) (c.Then (c.Return (Some (c.Const 0))) c.End)) }) (s.Then 1 (s.If ([]) ((record { lines = ((line.Comb (((pos 1), 0) ∷ ((pos 1), 2) ∷ [])) ∷ []) }) ∷ (record { lines = ((line.Comb (((pos 1), 1) ∷ ((pos 1), 2) ∷ [])) ∷ []) }) ∷ []) ([]) ([])) (s.WithBlock (s.Then 2 (s.Return ((Named name_a) ∷ []) ([]) ((record { lines = ((line.Comb (((pos 1), 4) ∷ [])) ∷ []) }) ∷ [])) s.NoBlock s.End) (s.WithBlock (s.Then 3 (s.Return ((Number (pos 0)) ∷ []) ([]) ([])) s.NoBlock s.End) s.NoBlock)) s.End) ≡ Accepted
unfolding computing
random_896 = refl

random_897 : body_verdict (record { predicates = ((record { name = name_ov; args = ([]); cases = ((record { opened = (sort.Val ∷ []); facts = ([]); locals = []; items = ((Data (Number (pos 64)) (Global name_x) (Of2 binary.Cons (Var 0 sort.Val) Nil)) ∷ []) }) ∷ []) }) ∷ []); specs = ((record { is_void = true; name = name_nop; params = ([]); vars = []; pre = (record { opened = []; facts = ([]); locals = []; items = ([]) }); post = (record { opened = []; facts = ([]); locals = []; items = ([]) }) }) ∷ (record { is_void = false; name = name_pos; params = (name_n ∷ []); vars = ((name_a, sort.Int) ∷ []); pre = (record { opened = []; facts = ((Rel relation.Le (Number (pos 0)) (Var 0 sort.Int)) ∷ (Rel relation.Le (Var 0 sort.Int) (Number (pos 100))) ∷ []); locals = ((name_n, (Of unary.Vi (Var 0 sort.Int))) ∷ []); items = ([]) }); post = (record { opened = (sort.Int ∷ []); facts = ((Rel relation.Eq (Var 1 sort.Val) (Of unary.Vi (Var 2 sort.Int))) ∷ (Rel relation.Le (Number (pos 0)) (Var 2 sort.Int)) ∷ (Rel relation.Le (Var 2 sort.Int) (Var 0 sort.Int)) ∷ []); locals = []; items = ([]) }) }) ∷ (record { is_void = false; name = name_main; params = ([]); vars = []; pre = (record { opened = []; facts = ([]); locals = []; items = ((Data (Number (pos 64)) (Global name_arr) (Of2 binary.Cons (Of unary.Vi (Number (pos 1))) (Of2 binary.Cons (Of unary.Vi (Number (pos 2))) (Of2 binary.Cons (Of unary.Vi (Number (pos 0))) (Of2 binary.Cons (Of unary.Vi (Number (pos 0))) Nil))))) ∷ (Data (Number (pos 64)) (Global name_x) (Of2 binary.Cons (Of unary.Vi (Number (pos 3))) Nil)) ∷ (Data (Number (pos 64)) (Global name_l) (Of2 binary.Cons (Of unary.Vi (Number (pos 0))) Nil)) ∷ []) }); post = (record { opened = (sort.List ∷ []); facts = ([]); locals = []; items = ((Data (Number (pos 64)) (Global name_arr) (Of2 binary.Cons (Of unary.Vi (Number (pos 1))) (Of2 binary.Cons (Of unary.Vi (Number (pos 2))) (Of2 binary.Cons (Of unary.Vi (Number (pos 0))) (Of2 binary.Cons (Of unary.Vi (Number (pos 0))) Nil))))) ∷ (Data (Number (pos 64)) (Global name_x) (Var 1 sort.List)) ∷ (Data (Number (pos 64)) (Global name_l) (Of2 binary.Cons Undef Nil)) ∷ []) }) }) ∷ []) }) (record { is_void = false; name = name_main; params = ([]); vars = []; pre = (record { opened = []; facts = ([]); locals = []; items = ((Data (Number (pos 64)) (Global name_arr) (Of2 binary.Cons (Of unary.Vi (Number (pos 1))) (Of2 binary.Cons (Of unary.Vi (Number (pos 2))) (Of2 binary.Cons (Of unary.Vi (Number (pos 0))) (Of2 binary.Cons (Of unary.Vi (Number (pos 0))) Nil))))) ∷ (Data (Number (pos 64)) (Global name_x) (Of2 binary.Cons (Of unary.Vi (Number (pos 3))) Nil)) ∷ (Data (Number (pos 64)) (Global name_l) (Of2 binary.Cons (Of unary.Vi (Number (pos 0))) Nil)) ∷ []) }); post = (record { opened = (sort.List ∷ []); facts = ([]); locals = []; items = ((Data (Number (pos 64)) (Global name_arr) (Of2 binary.Cons (Of unary.Vi (Number (pos 1))) (Of2 binary.Cons (Of unary.Vi (Number (pos 2))) (Of2 binary.Cons (Of unary.Vi (Number (pos 0))) (Of2 binary.Cons (Of unary.Vi (Number (pos 0))) Nil))))) ∷ (Data (Number (pos 64)) (Global name_x) (Var 1 sort.List)) ∷ (Data (Number (pos 64)) (Global name_l) (Of2 binary.Cons Undef Nil)) ∷ []) }) }) (record { temps = (name_s ∷ name_t ∷ name_i ∷ name_x1 ∷ name_d0 ∷ name_p1 ∷ name_q1 ∷ []); body = (c.Then (c.Set 0 (c.Const 0)) (c.Then (c.OnLock lock.Make (c.Address (root.Global name_l 1) c.Here)) (c.Then (c.OnLock lock.Release (c.Address (root.Global name_l 1) c.Here)) (c.Then (c.Load 1 (root.Global name_arr 4) (c.Index kind.Signed (c.Const 1) c.Here)) (c.Then (c.Call None name_nop ([])) (c.Then (c.Call (Some 1) name_pos ((c.Const 3) ∷ [])) (c.Then (c.OnLock lock.Acquire (c.Address (root.Global name_l 1) c.Here)) (c.Then (c.Load 1 (root.Global name_x 1) c.Here) (c.Then (c.Store (root.Global name_x 1) c.Here (c.Temp 1)) (c.Then (c.OnLock lock.Release (c.Address (root.Global name_l 1) c.Here)) (c.Then (c.OnLock lock.Acquire (c.Address (root.Global name_l 1) c.Here)) (c.Then (c.OnLock lock.Free (c.Address (root.Global name_l 1) c.Here)) (c.Then (c.Return (Some (c.Temp 1))) c.End))))))))))))) }) (s.Then 1 (s.Set ([]) ([])) s.NoBlock (s.Then 2 (s.MakeLock 2 (record { name = name_ov; args = ([]) }) ([]) ([])) s.NoBlock (s.Then 3 (s.Fold name_ov 0 ([]) ((Of unary.Vi (Number (pos 3))) ∷ []) ([])) s.NoBlock (s.Then 4 (s.Release 2 3 ([])) s.NoBlock (s.Then 5 (s.Load 0 ([]) ([])) s.NoBlock (s.Then 6 (s.Call ([]) ([]) ([]) ([])) s.NoBlock (s.Then 7 (s.Call ((Number (pos 3)) ∷ []) ([]) ([]) (name_k1 ∷ name_k2 ∷ [])) s.NoBlock (s.Then 8 (s.Acquire 1 ([])) s.NoBlock (s.Then 9 (s.Unfold 3 ((name_k3 ∷ []) ∷ [])) (s.WithBlock (s.Then 10 (s.Load 3 ([]) ([])) s.NoBlock (s.Then 11 (s.Store 3 ([]) ([])) s.NoBlock (s.Then 12 (s.Fold name_ov 1 ([]) ((Named name_k3) ∷ []) ([])) s.NoBlock (s.Then 13 (s.Release 1 3 ([])) s.NoBlock (s.Then 14 (s.Acquire 1 ([])) s.NoBlock (s.Then 15 (s.Unfold 3 ((name_k4 ∷ []) ∷ [])) (s.WithBlock (s.Then 16 (s.FreeLock 1 2 ([]) ([])) s.NoBlock (s.Then 17 (s.Return ((Of2 binary.Cons (Named name_k4) Nil) ∷ []) ([]) ([])) s.NoBlock s.End)) s.NoBlock) s.End)))))) s.NoBlock) s.End))))))))) ≡ (RefusedAt 12 21 1)
unfolding computing
random_897 = refl

random_898 : body_verdict (record { predicates = ((record { name = name_ov; args = ([]); cases = ((record { opened = (sort.Val ∷ []); facts = ([]); locals = []; items = ((Data (Number (pos 64)) (Global name_x) (Of2 binary.Cons (Var 0 sort.Val) Nil)) ∷ []) }) ∷ []) }) ∷ []); specs = ((record { is_void = true; name = name_nop; params = ([]); vars = []; pre = (record { opened = []; facts = ([]); locals = []; items = ([]) }); post = (record { opened = []; facts = ([]); locals = []; items = ([]) }) }) ∷ (record { is_void = false; name = name_pos; params = (name_n ∷ []); vars = ((name_a, sort.Int) ∷ []); pre = (record { opened = []; facts = ((Rel relation.Le (Number (pos 0)) (Var 0 sort.Int)) ∷ (Rel relation.Le (Var 0 sort.Int) (Number (pos 100))) ∷ []); locals = ((name_n, (Of unary.Vi (Var 0 sort.Int))) ∷ []); items = ([]) }); post = (record { opened = (sort.Int ∷ []); facts = ((Rel relation.Eq (Var 1 sort.Val) (Of unary.Vi (Var 2 sort.Int))) ∷ (Rel relation.Le (Number (pos 0)) (Var 2 sort.Int)) ∷ (Rel relation.Le (Var 2 sort.Int) (Var 0 sort.Int)) ∷ []); locals = []; items = ([]) }) }) ∷ (record { is_void = false; name = name_main; params = ([]); vars = []; pre = (record { opened = []; facts = ([]); locals = []; items = ((Data (Number (pos 64)) (Global name_arr) (Of2 binary.Cons (Of unary.Vi (Number (pos 1))) (Of2 binary.Cons (Of unary.Vi (Number (pos 2))) (Of2 binary.Cons (Of unary.Vi (Number (pos 0))) (Of2 binary.Cons (Of unary.Vi (Number (pos 0))) Nil))))) ∷ (Data (Number (pos 64)) (Global name_x) (Of2 binary.Cons (Of unary.Vi (Number (pos 3))) Nil)) ∷ (Data (Number (pos 64)) (Global name_l) (Of2 binary.Cons (Of unary.Vi (Number (pos 0))) Nil)) ∷ []) }); post = (record { opened = (sort.List ∷ []); facts = ([]); locals = []; items = ((Data (Number (pos 64)) (Global name_arr) (Of2 binary.Cons (Of unary.Vi (Number (pos 1))) (Of2 binary.Cons (Of unary.Vi (Number (pos 2))) (Of2 binary.Cons (Of unary.Vi (Number (pos 0))) (Of2 binary.Cons (Of unary.Vi (Number (pos 0))) Nil))))) ∷ (Data (Number (pos 64)) (Global name_x) (Var 1 sort.List)) ∷ (Data (Number (pos 64)) (Global name_l) (Of2 binary.Cons Undef Nil)) ∷ []) }) }) ∷ []) }) (record { is_void = false; name = name_main; params = ([]); vars = []; pre = (record { opened = []; facts = ([]); locals = []; items = ((Data (Number (pos 64)) (Global name_arr) (Of2 binary.Cons (Of unary.Vi (Number (pos 1))) (Of2 binary.Cons (Of unary.Vi (Number (pos 2))) (Of2 binary.Cons (Of unary.Vi (Number (pos 0))) (Of2 binary.Cons (Of unary.Vi (Number (pos 0))) Nil))))) ∷ (Data (Number (pos 64)) (Global name_x) (Of2 binary.Cons (Of unary.Vi (Number (pos 3))) Nil)) ∷ (Data (Number (pos 64)) (Global name_l) (Of2 binary.Cons (Of unary.Vi (Number (pos 0))) Nil)) ∷ []) }); post = (record { opened = (sort.List ∷ []); facts = ([]); locals = []; items = ((Data (Number (pos 64)) (Global name_arr) (Of2 binary.Cons (Of unary.Vi (Number (pos 1))) (Of2 binary.Cons (Of unary.Vi (Number (pos 2))) (Of2 binary.Cons (Of unary.Vi (Number (pos 0))) (Of2 binary.Cons (Of unary.Vi (Number (pos 0))) Nil))))) ∷ (Data (Number (pos 64)) (Global name_x) (Var 1 sort.List)) ∷ (Data (Number (pos 64)) (Global name_l) (Of2 binary.Cons Undef Nil)) ∷ []) }) }) (record { temps = (name_s ∷ name_t ∷ name_i ∷ name_x1 ∷ name_d0 ∷ name_p1 ∷ name_q1 ∷ []); body = (c.Then (c.Set 0 (c.Const 0)) (c.Then (c.OnLock lock.Make (c.Address (root.Global name_l 1) c.Here)) (c.Then (c.OnLock lock.Release (c.Address (root.Global name_l 1) c.Here)) (c.Then (c.Load 1 (root.Global name_arr 4) (c.Index kind.Signed (c.Const 1) c.Here)) (c.Then (c.Call None name_nop ([])) (c.Then (c.Call (Some 1) name_pos ((c.Const 3) ∷ [])) (c.Then (c.OnLock lock.Acquire (c.Address (root.Global name_l 1) c.Here)) (c.Then (c.Load 1 (root.Global name_x 1) c.Here) (c.Then (c.Store (root.Global name_x 1) c.Here (c.Temp 1)) (c.Then (c.OnLock lock.Release (c.Address (root.Global name_l 1) c.Here)) (c.Then (c.OnLock lock.Acquire (c.Address (root.Global name_l 1) c.Here)) (c.Then (c.OnLock lock.Free (c.Address (root.Global name_l 1) c.Here)) (c.Then (c.Return (Some (c.Temp 1))) c.End))))))))))))) }) (s.Then 1 (s.Set ([]) ([])) s.NoBlock (s.Then 2 (s.MakeLock 2 (record { name = name_ov; args = ([]) }) ([]) ([])) s.NoBlock (s.Then 3 (s.Fold name_ov 0 ([]) ((Of unary.Vi (Number (pos 3))) ∷ []) ([])) s.NoBlock (s.Then 4 (s.Release 2 3 ([])) s.NoBlock (s.Then 5 (s.Load 0 ([]) ([])) s.NoBlock (s.Then 6 (s.Call ([]) ([]) ([]) ([])) s.NoBlock (s.Then 7 (s.Acquire 1 ([])) s.NoBlock (s.Then 8 (s.Call ((Number (pos 3)) ∷ []) ([]) ([]) (name_k1 ∷ name_k2 ∷ [])) s.NoBlock (s.Then 9 (s.Unfold 3 ((name_k3 ∷ []) ∷ [])) (s.WithBlock (s.Then 10 (s.Load 3 ([]) ([])) s.NoBlock (s.Then 11 (s.Store 3 ([]) ([])) s.NoBlock (s.Then 12 (s.Fold name_ov 0 ([]) ((Named name_k3) ∷ []) ([])) s.NoBlock (s.Then 13 (s.Release 2 3 ([])) s.NoBlock (s.Then 14 (s.Acquire 1 ([])) s.NoBlock (s.Then 15 (s.Unfold 3 ((name_k4 ∷ []) ∷ [])) (s.WithBlock (s.Then 16 (s.FreeLock 1 2 ([]) ([])) s.NoBlock (s.Then 17 (s.Return ((Of2 binary.Cons (Named name_k4) Nil) ∷ []) ([]) ([])) s.NoBlock s.End)) s.NoBlock) s.End)))))) s.NoBlock) s.End))))))))) ≡ (RefusedAt 7 17 1)
unfolding computing
random_898 = refl

random_899 : body_verdict (record { predicates = ((record { name = name_ov; args = ([]); cases = ((record { opened = (sort.Val ∷ []); facts = ([]); locals = []; items = ((Data (Number (pos 64)) (Global name_x) (Of2 binary.Cons (Var 0 sort.Val) Nil)) ∷ []) }) ∷ []) }) ∷ []); specs = ((record { is_void = true; name = name_nop; params = ([]); vars = []; pre = (record { opened = []; facts = ([]); locals = []; items = ([]) }); post = (record { opened = []; facts = ([]); locals = []; items = ([]) }) }) ∷ (record { is_void = false; name = name_pos; params = (name_n ∷ []); vars = ((name_a, sort.Int) ∷ []); pre = (record { opened = []; facts = ((Rel relation.Le (Number (pos 0)) (Var 0 sort.Int)) ∷ (Rel relation.Le (Var 0 sort.Int) (Number (pos 100))) ∷ []); locals = ((name_n, (Of unary.Vi (Var 0 sort.Int))) ∷ []); items = ([]) }); post = (record { opened = (sort.Int ∷ []); facts = ((Rel relation.Eq (Var 1 sort.Val) (Of unary.Vi (Var 2 sort.Int))) ∷ (Rel relation.Le (Number (pos 0)) (Var 2 sort.Int)) ∷ (Rel relation.Le (Var 2 sort.Int) (Var 0 sort.Int)) ∷ []); locals = []; items = ([]) }) }) ∷ (record { is_void = false; name = name_main; params = ([]); vars = []; pre = (record { opened = []; facts = ([]); locals = []; items = ((Data (Number (pos 64)) (Global name_arr) (Of2 binary.Cons (Of unary.Vi (Number (pos 1))) (Of2 binary.Cons (Of unary.Vi (Number (pos 2))) (Of2 binary.Cons (Of unary.Vi (Number (pos 0))) (Of2 binary.Cons (Of unary.Vi (Number (pos 0))) Nil))))) ∷ (Data (Number (pos 64)) (Global name_x) (Of2 binary.Cons (Of unary.Vi (Number (pos 3))) Nil)) ∷ (Data (Number (pos 64)) (Global name_l) (Of2 binary.Cons (Of unary.Vi (Number (pos 0))) Nil)) ∷ []) }); post = (record { opened = (sort.List ∷ []); facts = ([]); locals = []; items = ((Data (Number (pos 64)) (Global name_arr) (Of2 binary.Cons (Of unary.Vi (Number (pos 1))) (Of2 binary.Cons (Of unary.Vi (Number (pos 2))) (Of2 binary.Cons (Of unary.Vi (Number (pos 0))) (Of2 binary.Cons (Of unary.Vi (Number (pos 0))) Nil))))) ∷ (Data (Number (pos 64)) (Global name_x) (Var 1 sort.List)) ∷ (Data (Number (pos 64)) (Global name_l) (Of2 binary.Cons Undef Nil)) ∷ []) }) }) ∷ []) }) (record { is_void = false; name = name_main; params = ([]); vars = []; pre = (record { opened = []; facts = ([]); locals = []; items = ((Data (Number (pos 64)) (Global name_arr) (Of2 binary.Cons (Of unary.Vi (Number (pos 1))) (Of2 binary.Cons (Of unary.Vi (Number (pos 2))) (Of2 binary.Cons (Of unary.Vi (Number (pos 0))) (Of2 binary.Cons (Of unary.Vi (Number (pos 0))) Nil))))) ∷ (Data (Number (pos 64)) (Global name_x) (Of2 binary.Cons (Of unary.Vi (Number (pos 3))) Nil)) ∷ (Data (Number (pos 64)) (Global name_l) (Of2 binary.Cons (Of unary.Vi (Number (pos 0))) Nil)) ∷ []) }); post = (record { opened = (sort.List ∷ []); facts = ([]); locals = []; items = ((Data (Number (pos 64)) (Global name_arr) (Of2 binary.Cons (Of unary.Vi (Number (pos 1))) (Of2 binary.Cons (Of unary.Vi (Number (pos 2))) (Of2 binary.Cons (Of unary.Vi (Number (pos 0))) (Of2 binary.Cons (Of unary.Vi (Number (pos 0))) Nil))))) ∷ (Data (Number (pos 64)) (Global name_x) (Var 1 sort.List)) ∷ (Data (Number (pos 64)) (Global name_l) (Of2 binary.Cons Undef Nil)) ∷ []) }) }) (record { temps = (name_s ∷ name_t ∷ name_i ∷ name_x1 ∷ name_d0 ∷ name_p1 ∷ name_q1 ∷ []); body = (c.Then (c.Set 0 (c.Const 0)) (c.Then (c.OnLock lock.Make (c.Address (root.Global name_l 1) c.Here)) (c.Then (c.OnLock lock.Release (c.Address (root.Global name_l 1) c.Here)) (c.Then (c.Load 1 (root.Global name_arr 4) (c.Index kind.Signed (c.Const 1) c.Here)) (c.Then (c.Call None name_nop ([])) (c.Then (c.Call (Some 1) name_pos ((c.Const 3) ∷ [])) (c.Then (c.OnLock lock.Acquire (c.Address (root.Global name_l 1) c.Here)) (c.Then (c.Load 1 (root.Global name_x 1) c.Here) (c.Then (c.Store (root.Global name_x 1) c.Here (c.Temp 1)) (c.Then (c.OnLock lock.Release (c.Address (root.Global name_l 1) c.Here)) (c.Then (c.OnLock lock.Acquire (c.Address (root.Global name_l 1) c.Here)) (c.Then (c.OnLock lock.Free (c.Address (root.Global name_l 1) c.Here)) (c.Then (c.Return (Some (c.Temp 1))) c.End))))))))))))) }) (s.Then 1 (s.Set ([]) ([])) s.NoBlock (s.Then 2 (s.MakeLock 2 (record { name = name_ov; args = ([]) }) ([]) ([])) s.NoBlock (s.Then 3 (s.Fold name_ov 0 ([]) ((Of unary.Vi (Number (pos 3))) ∷ []) ([])) s.NoBlock (s.Then 4 (s.Release 2 3 ([])) s.NoBlock (s.Then 5 (s.Load 2147483647 ([]) ([])) s.NoBlock (s.Then 6 (s.Call ([]) ([]) ([]) ([])) s.NoBlock (s.Then 7 (s.Call ((Number (pos 3)) ∷ []) ([]) ([]) (name_k1 ∷ name_k2 ∷ [])) s.NoBlock (s.Then 8 (s.Acquire 1 ([])) s.NoBlock (s.Then 9 (s.Unfold 3 ((name_k3 ∷ []) ∷ [])) (s.WithBlock (s.Then 10 (s.Load 3 ([]) ([])) s.NoBlock (s.Then 11 (s.Store 3 ([]) ([])) s.NoBlock (s.Then 12 (s.Fold name_ov 0 ([]) ((Named name_k3) ∷ []) ([])) s.NoBlock (s.Then 13 (s.Release 2 3 ([])) s.NoBlock (s.Then 14 (s.Acquire 1 ([])) s.NoBlock (s.Then 15 (s.Unfold 3 ((name_k4 ∷ []) ∷ [])) (s.WithBlock (s.Then 16 (s.FreeLock 1 2 ([]) ([])) s.NoBlock (s.Then 17 (s.Return ((Of2 binary.Cons (Named name_k4) Nil) ∷ []) ([]) ([])) s.NoBlock s.End)) s.NoBlock) s.End)))))) s.NoBlock) s.End))))))))) ≡ (RefusedAt 5 3 1)
unfolding computing
random_899 = refl

random_900 : body_verdict (record { predicates = ((record { name = name_ov; args = ([]); cases = ((record { opened = (sort.Val ∷ []); facts = ([]); locals = []; items = ((Data (Number (pos 64)) (Global name_x) (Of2 binary.Cons (Var 0 sort.Val) Nil)) ∷ []) }) ∷ []) }) ∷ []); specs = ((record { is_void = true; name = name_nop; params = ([]); vars = []; pre = (record { opened = []; facts = ([]); locals = []; items = ([]) }); post = (record { opened = []; facts = ([]); locals = []; items = ([]) }) }) ∷ (record { is_void = false; name = name_pos; params = (name_n ∷ []); vars = ((name_a, sort.Int) ∷ []); pre = (record { opened = []; facts = ((Rel relation.Le (Number (pos 0)) (Var 0 sort.Int)) ∷ (Rel relation.Le (Var 0 sort.Int) (Number (pos 100))) ∷ []); locals = ((name_n, (Of unary.Vi (Var 0 sort.Int))) ∷ []); items = ([]) }); post = (record { opened = (sort.Int ∷ []); facts = ((Rel relation.Eq (Var 1 sort.Val) (Of unary.Vi (Var 2 sort.Int))) ∷ (Rel relation.Le (Number (pos 0)) (Var 2 sort.Int)) ∷ (Rel relation.Le (Var 2 sort.Int) (Var 0 sort.Int)) ∷ []); locals = []; items = ([]) }) }) ∷ (record { is_void = false; name = name_main; params = ([]); vars = []; pre = (record { opened = []; facts = ([]); locals = []; items = ((Data (Number (pos 64)) (Global name_arr) (Of2 binary.Cons (Of unary.Vi (Number (pos 1))) (Of2 binary.Cons (Of unary.Vi (Number (pos 2))) (Of2 binary.Cons (Of unary.Vi (Number (pos 0))) (Of2 binary.Cons (Of unary.Vi (Number (pos 0))) Nil))))) ∷ (Data (Number (pos 64)) (Global name_x) (Of2 binary.Cons (Of unary.Vi (Number (pos 3))) Nil)) ∷ (Data (Number (pos 64)) (Global name_l) (Of2 binary.Cons (Of unary.Vi (Number (pos 0))) Nil)) ∷ []) }); post = (record { opened = (sort.List ∷ []); facts = ([]); locals = []; items = ((Data (Number (pos 64)) (Global name_arr) (Of2 binary.Cons (Of unary.Vi (Number (pos 1))) (Of2 binary.Cons (Of unary.Vi (Number (pos 2))) (Of2 binary.Cons (Of unary.Vi (Number (pos 0))) (Of2 binary.Cons (Of unary.Vi (Number (pos 0))) Nil))))) ∷ (Data (Number (pos 64)) (Global name_x) (Var 1 sort.List)) ∷ (Data (Number (pos 64)) (Global name_l) (Of2 binary.Cons Undef Nil)) ∷ []) }) }) ∷ []) }) (record { is_void = false; name = name_main; params = ([]); vars = []; pre = (record { opened = []; facts = ([]); locals = []; items = ((Data (Number (pos 64)) (Global name_arr) (Of2 binary.Cons (Of unary.Vi (Number (pos 1))) (Of2 binary.Cons (Of unary.Vi (Number (pos 2))) (Of2 binary.Cons (Of unary.Vi (Number (pos 0))) (Of2 binary.Cons (Of unary.Vi (Number (pos 0))) Nil))))) ∷ (Data (Number (pos 64)) (Global name_x) (Of2 binary.Cons (Of unary.Vi (Number (pos 3))) Nil)) ∷ (Data (Number (pos 64)) (Global name_l) (Of2 binary.Cons (Of unary.Vi (Number (pos 0))) Nil)) ∷ []) }); post = (record { opened = (sort.List ∷ []); facts = ([]); locals = []; items = ((Data (Number (pos 64)) (Global name_arr) (Of2 binary.Cons (Of unary.Vi (Number (pos 1))) (Of2 binary.Cons (Of unary.Vi (Number (pos 2))) (Of2 binary.Cons (Of unary.Vi (Number (pos 0))) (Of2 binary.Cons (Of unary.Vi (Number (pos 0))) Nil))))) ∷ (Data (Number (pos 64)) (Global name_x) (Var 1 sort.List)) ∷ (Data (Number (pos 64)) (Global name_l) (Of2 binary.Cons Undef Nil)) ∷ []) }) }) (record { temps = (name_s ∷ name_t ∷ name_i ∷ name_x1 ∷ name_d0 ∷ name_p1 ∷ name_q1 ∷ []); body = (c.Then (c.Set 0 (c.Const 0)) (c.Then (c.OnLock lock.Make (c.Address (root.Global name_l 1) c.Here)) (c.Then (c.OnLock lock.Release (c.Address (root.Global name_l 1) c.Here)) (c.Then (c.Load 1 (root.Global name_arr 4) (c.Index kind.Signed (c.Const 1) c.Here)) (c.Then (c.Call None name_nop ([])) (c.Then (c.Call (Some 1) name_pos ((c.Const 3) ∷ [])) (c.Then (c.OnLock lock.Acquire (c.Address (root.Global name_l 1) c.Here)) (c.Then (c.Load 1 (root.Global name_x 1) c.Here) (c.Then (c.Store (root.Global name_x 1) c.Here (c.Temp 1)) (c.Then (c.OnLock lock.Release (c.Address (root.Global name_l 1) c.Here)) (c.Then (c.OnLock lock.Acquire (c.Address (root.Global name_l 1) c.Here)) (c.Then (c.OnLock lock.Free (c.Address (root.Global name_l 1) c.Here)) (c.Then (c.Return (Some (c.Temp 1))) c.End))))))))))))) }) (s.Then 1 (s.Set ([]) ([])) s.NoBlock (s.Then 2 (s.MakeLock 2 (record { name = name_ov; args = ([]) }) ([]) ([])) s.NoBlock (s.Then 3 (s.Fold name_ov 0 ([]) ((Of unary.Vi (Number (pos 3))) ∷ []) ([])) s.NoBlock (s.Then 4 (s.Release 2 3 ([])) s.NoBlock (s.Then 5 (s.Load 0 ([]) ([])) s.NoBlock (s.Then 6 (s.Call ([]) ([]) ([]) ([])) s.NoBlock (s.Then 7 (s.Call ((Number (pos 3)) ∷ []) ([]) ([]) (name_k1 ∷ name_k2 ∷ [])) s.NoBlock (s.Then 8 (s.Acquire 1 ([])) s.NoBlock (s.Then 9 (s.Acquire 1 ([])) s.NoBlock (s.Then 10 (s.Unfold 3 ((name_k3 ∷ []) ∷ [])) (s.WithBlock (s.Then 11 (s.Load 3 ([]) ([])) s.NoBlock (s.Then 12 (s.Store 3 ([]) ([])) s.NoBlock (s.Then 13 (s.Fold name_ov 0 ([]) ((Named name_k3) ∷ []) ([])) s.NoBlock (s.Then 14 (s.Release 2 3 ([])) s.NoBlock (s.Then 15 (s.Acquire 1 ([])) s.NoBlock (s.Then 16 (s.Unfold 3 ((name_k4 ∷ []) ∷ [])) (s.WithBlock (s.Then 17 (s.FreeLock 1 2 ([]) ([])) s.NoBlock (s.Then 18 (s.Return ((Of2 binary.Cons (Named name_k4) Nil) ∷ []) ([]) ([])) s.NoBlock s.End)) s.NoBlock) s.End)))))) s.NoBlock) s.End)))))))))) ≡ (RefusedAt 9 17 1)
unfolding computing
random_900 = refl
