-- The worked texts, right and with a fault.
use Rattle.std.specs.Prelude.{◌≡◌, refl, pos, [], ◌∷◌, true, false, Some, None}
use Rattle.vd_terms.specs.Terms.{Number, Var, Named, Global, Undef, Nil, Of, Of2}
use Rattle.vd_terms.specs.declared.assertion.FactOf.TheVariants.{Rel}
use Rattle.vd_terms.specs.declared.assertion.ItemOf.TheVariants.{Data, Lock, Holds, Pred}
use Rattle.vd_rules.specs.Computing.{computing}
use Rattle.vd_rules.specs.Verdicts.{Accepted, RefusedAt, body_verdict, sub_verdict, init_verdict}
use Rattle.vd_terms.specs.declared.operation.Unary.TheVariants as unary
use Rattle.vd_terms.specs.declared.operation.Binary.TheVariants as binary
use Rattle.vd_logic.specs.declared.term.Sort.TheVariants as sort
use Rattle.vd_logic.specs.declared.assertion.Rel.TheVariants as relation
use Rattle.vd_logic.specs.declared.step.CertLine.TheVariants as line
use Rattle.vd_logic.specs.declared.step.Occurrence.TheVariants as occurrence
use Rattle.vd_clight.specs.declared.syntax.BinOp.TheVariants as two
use Rattle.vd_clight.specs.declared.typed.Kind.TheVariants as kind
use Rattle.vd_clight.specs.declared.typed.Root.TheVariants as root
use Rattle.vd_clight.specs.declared.typed.LockOp.TheVariants as lock
use Rattle.vd_steps.specs.Code as c
use Rattle.vd_steps.specs.Script as s
use Rattle.vd_examples.specs.Names.{name_E, name_a, name_app_assoc, name_app_nil, name_b, name_bump, name_c, name_cnt, name_ctr, name_done, name_f, name_h, name_j, name_ja, name_jb, name_l, name_listrep, name_m, name_main, name_n, name_ne_lt, name_p, name_q, name_rev_cons, name_rev_rev, name_reverse, name_s, name_t, name_v, name_w, name_x, name_y, name_z}

worked_1 : body_verdict (record { predicates = ([]); specs = ((record { is_void = false; name = name_main; params = ([]); vars = []; pre = (record { opened = []; facts = ([]); locals = []; items = ((Data (Number (pos 64)) (Global name_a) (Of2 binary.Cons (Of unary.Vi (Number (pos 7))) Nil)) ∷ []) }); post = (record { opened = []; facts = ((Rel relation.Eq (Var 0 sort.Val) (Of unary.Vi (Number (pos 7)))) ∷ []); locals = []; items = ((Data (Number (pos 64)) (Global name_a) (Of2 binary.Cons (Of unary.Vi (Number (pos 7))) Nil)) ∷ []) }) }) ∷ []) }) (record { is_void = false; name = name_main; params = ([]); vars = []; pre = (record { opened = []; facts = ([]); locals = []; items = ((Data (Number (pos 64)) (Global name_a) (Of2 binary.Cons (Of unary.Vi (Number (pos 7))) Nil)) ∷ []) }); post = (record { opened = []; facts = ((Rel relation.Eq (Var 0 sort.Val) (Of unary.Vi (Number (pos 7)))) ∷ []); locals = []; items = ((Data (Number (pos 64)) (Global name_a) (Of2 binary.Cons (Of unary.Vi (Number (pos 7))) Nil)) ∷ []) }) }) (record { temps = (name_s ∷ name_t ∷ []); body = (c.Then (c.Set 0 (c.Const 0)) (c.Then (c.Load 1 (root.Global name_a 1) (c.Index kind.Signed (c.Const 0) c.Here)) (c.Then (c.Set 0 (c.Binary two.Add kind.Signed (c.Temp 0) (c.Temp 1))) (c.Then (c.Return (Some (c.Temp 0))) c.End)))) }) (s.Then 1 (s.Set ([]) ([])) s.NoBlock (s.Then 2 (s.Load 0 ([]) ([])) s.NoBlock (s.Then 3 (s.Set ([]) ([])) s.NoBlock (s.Then 4 (s.Return ([]) ([]) ([])) s.NoBlock s.End)))) ≡ Accepted
unfolding computing
worked_1 = refl

worked_2 : body_verdict (record { predicates = ([]); specs = ((record { is_void = false; name = name_f; params = (name_p ∷ []); vars = ((name_a, sort.Int) ∷ []); pre = (record { opened = []; facts = ((Rel relation.Le (Number (pos 0)) (Var 0 sort.Int)) ∷ (Rel relation.Le (Var 0 sort.Int) (Number (pos 9))) ∷ []); locals = ((name_p, (Of unary.Vi (Var 0 sort.Int))) ∷ []); items = ([]) }); post = (record { opened = []; facts = ((Rel relation.Eq (Var 1 sort.Val) (Of unary.Vi (Of2 binary.Add (Var 0 sort.Int) (Number (pos 1))))) ∷ []); locals = []; items = ([]) }) }) ∷ []) }) (record { is_void = false; name = name_f; params = (name_p ∷ []); vars = ((name_a, sort.Int) ∷ []); pre = (record { opened = []; facts = ((Rel relation.Le (Number (pos 0)) (Var 0 sort.Int)) ∷ (Rel relation.Le (Var 0 sort.Int) (Number (pos 9))) ∷ []); locals = ((name_p, (Of unary.Vi (Var 0 sort.Int))) ∷ []); items = ([]) }); post = (record { opened = []; facts = ((Rel relation.Eq (Var 1 sort.Val) (Of unary.Vi (Of2 binary.Add (Var 0 sort.Int) (Number (pos 1))))) ∷ []); locals = []; items = ([]) }) }) (record { temps = (name_p ∷ name_t ∷ []); body = (c.Then (c.Set 1 (c.Binary two.Add kind.Signed (c.Temp 0) (c.Const 1))) (c.Then (c.Return (Some (c.Temp 1))) c.End)) }) (s.Then 1 (s.Set ([]) ((record { lines = ((line.Comb (((pos 1), 0) ∷ ((pos 1), 2) ∷ [])) ∷ []) }) ∷ (record { lines = ((line.Comb (((pos 1), 0) ∷ ((pos 1), 1) ∷ [])) ∷ []) }) ∷ (record { lines = ((line.Comb (((pos 1), 0) ∷ ((pos 1), 2) ∷ [])) ∷ []) }) ∷ (record { lines = ((line.Comb (((pos 1), 1) ∷ ((pos 1), 2) ∷ [])) ∷ []) }) ∷ [])) s.NoBlock (s.Then 2 (s.Return ([]) ([]) ([])) s.NoBlock s.End)) ≡ (RefusedAt 1 2 3)
unfolding computing
worked_2 = refl

worked_3 : body_verdict (record { predicates = ([]); specs = ((record { is_void = false; name = name_f; params = (name_p ∷ []); vars = ((name_a, sort.Int) ∷ []); pre = (record { opened = []; facts = ((Rel relation.Le (Number (pos 0)) (Var 0 sort.Int)) ∷ (Rel relation.Le (Var 0 sort.Int) (Number (pos 9))) ∷ []); locals = ((name_p, (Of unary.Vi (Var 0 sort.Int))) ∷ []); items = ([]) }); post = (record { opened = []; facts = ((Rel relation.Eq (Var 1 sort.Val) (Of unary.Vi (Of2 binary.Add (Var 0 sort.Int) (Number (pos 1))))) ∷ []); locals = []; items = ([]) }) }) ∷ []) }) (record { is_void = false; name = name_f; params = (name_p ∷ []); vars = ((name_a, sort.Int) ∷ []); pre = (record { opened = []; facts = ((Rel relation.Le (Number (pos 0)) (Var 0 sort.Int)) ∷ (Rel relation.Le (Var 0 sort.Int) (Number (pos 9))) ∷ []); locals = ((name_p, (Of unary.Vi (Var 0 sort.Int))) ∷ []); items = ([]) }); post = (record { opened = []; facts = ((Rel relation.Eq (Var 1 sort.Val) (Of unary.Vi (Of2 binary.Add (Var 0 sort.Int) (Number (pos 1))))) ∷ []); locals = []; items = ([]) }) }) (record { temps = (name_p ∷ name_t ∷ []); body = (c.Then (c.Set 1 (c.Binary two.Add kind.Signed (c.Temp 0) (c.Const 1))) (c.Then (c.Return (Some (c.Temp 1))) c.End)) }) (s.Then 1 (s.Set ([]) ((record { lines = ((line.Comb (((pos 1), 0) ∷ ((pos 1), 2) ∷ [])) ∷ []) }) ∷ (record { lines = ((line.Comb (((pos 1), 1) ∷ ((pos 1), 2) ∷ [])) ∷ []) }) ∷ (record { lines = ((line.Comb (((pos 1), 0) ∷ ((pos 1), 2) ∷ [])) ∷ []) }) ∷ (record { lines = ((line.Comb (((pos 1), 1) ∷ ((pos 1), 2) ∷ [])) ∷ []) }) ∷ [])) s.NoBlock (s.Then 2 (s.Return ([]) ([]) ([])) s.NoBlock s.End)) ≡ Accepted
unfolding computing
worked_3 = refl

worked_4 : body_verdict (record { predicates = ((record { name = name_cnt; args = (sort.Int ∷ []); cases = ((record { opened = []; facts = ([]); locals = []; items = ((Data (Number (pos 64)) (Global name_c) (Of2 binary.Cons (Of unary.Vi (Var 0 sort.Int)) Nil)) ∷ []) }) ∷ []) }) ∷ []); specs = ((record { is_void = true; name = name_bump; params = ([]); vars = ((name_n, sort.Int) ∷ []); pre = (record { opened = []; facts = ([]); locals = []; items = ((Pred (record { name = name_cnt; args = ((Var 0 sort.Int) ∷ []) })) ∷ []) }); post = (record { opened = []; facts = ([]); locals = []; items = ((Pred (record { name = name_cnt; args = ((Of2 binary.Add (Var 0 sort.Int) (Number (pos 1))) ∷ []) })) ∷ []) }) }) ∷ []) }) (record { is_void = true; name = name_bump; params = ([]); vars = ((name_n, sort.Int) ∷ []); pre = (record { opened = []; facts = ([]); locals = []; items = ((Pred (record { name = name_cnt; args = ((Var 0 sort.Int) ∷ []) })) ∷ []) }); post = (record { opened = []; facts = ([]); locals = []; items = ((Pred (record { name = name_cnt; args = ((Of2 binary.Add (Var 0 sort.Int) (Number (pos 1))) ∷ []) })) ∷ []) }) }) (record { temps = (name_t ∷ []); body = (c.Then (c.Load 0 (root.Global name_c 1) c.Here) (c.Then (c.Store (root.Global name_c 1) c.Here (c.Binary two.Add kind.Unsigned (c.Temp 0) (c.Const 1))) (c.Then (c.Return None) c.End))) }) (s.Then 1 (s.Unfold 0 (([]) ∷ [])) (s.WithBlock (s.Then 2 (s.Load 0 ([]) ([])) s.NoBlock (s.Then 3 (s.Store 0 ([]) ([])) s.NoBlock (s.Then 4 (s.Fold name_cnt 0 ((Of2 binary.Add (Named name_n) (Number (pos 1))) ∷ []) ([]) ([])) s.NoBlock (s.Then 5 (s.Return ([]) ([]) ([])) s.NoBlock s.End)))) s.NoBlock) s.End) ≡ Accepted
unfolding computing
worked_4 = refl

worked_5 : init_verdict (record { predicates = ((record { name = name_cnt; args = (sort.Int ∷ []); cases = ((record { opened = []; facts = ([]); locals = []; items = ((Data (Number (pos 64)) (Global name_c) (Of2 binary.Cons (Of unary.Vi (Var 0 sort.Int)) Nil)) ∷ []) }) ∷ []) }) ∷ []); specs = ((record { is_void = true; name = name_bump; params = ([]); vars = ((name_n, sort.Int) ∷ []); pre = (record { opened = []; facts = ([]); locals = []; items = ((Pred (record { name = name_cnt; args = ((Var 0 sort.Int) ∷ []) })) ∷ []) }); post = (record { opened = []; facts = ([]); locals = []; items = ((Pred (record { name = name_cnt; args = ((Of2 binary.Add (Var 0 sort.Int) (Number (pos 1))) ∷ []) })) ∷ []) }) }) ∷ []) }) ((record { name = name_c; cells = 1; values = ([]) }) ∷ []) (record { opened = []; facts = ([]); locals = []; items = ((Pred (record { name = name_cnt; args = ((Number (pos 0)) ∷ []) })) ∷ []) }) (s.Then 1 (s.Fold name_cnt 0 ((Number (pos 0)) ∷ []) ([]) ([])) s.NoBlock (s.Then 2 (s.Meet ([]) ([])) s.NoBlock s.End)) ≡ Accepted
unfolding computing
worked_5 = refl

worked_6 : body_verdict (record { predicates = ((record { name = name_cnt; args = (sort.Int ∷ []); cases = ([]) }) ∷ []); specs = ((record { is_void = false; name = name_main; params = ([]); vars = []; pre = (record { opened = []; facts = ([]); locals = []; items = ((Pred (record { name = name_cnt; args = ((Number (pos 0)) ∷ []) })) ∷ []) }); post = (record { opened = []; facts = ((Rel relation.Eq (Var 0 sort.Val) (Of unary.Vi (Number (pos 0)))) ∷ []); locals = []; items = ((Pred (record { name = name_cnt; args = ((Number (pos 1)) ∷ []) })) ∷ []) }) }) ∷ (record { is_void = true; name = name_bump; params = ([]); vars = ((name_n, sort.Int) ∷ []); pre = (record { opened = []; facts = ([]); locals = []; items = ((Pred (record { name = name_cnt; args = ((Var 0 sort.Int) ∷ []) })) ∷ []) }); post = (record { opened = []; facts = ([]); locals = []; items = ((Pred (record { name = name_cnt; args = ((Of2 binary.Add (Var 0 sort.Int) (Number (pos 1))) ∷ []) })) ∷ []) }) }) ∷ []) }) (record { is_void = false; name = name_main; params = ([]); vars = []; pre = (record { opened = []; facts = ([]); locals = []; items = ((Pred (record { name = name_cnt; args = ((Number (pos 0)) ∷ []) })) ∷ []) }); post = (record { opened = []; facts = ((Rel relation.Eq (Var 0 sort.Val) (Of unary.Vi (Number (pos 0)))) ∷ []); locals = []; items = ((Pred (record { name = name_cnt; args = ((Number (pos 1)) ∷ []) })) ∷ []) }) }) (record { temps = ([]); body = (c.Then (c.Call None name_bump ([])) (c.Then (c.Return (Some (c.Const 0))) c.End)) }) (s.Then 1 (s.Unfold 0 (([]) ∷ [])) (s.WithBlock (s.Then 2 (s.Return ([]) ([]) ([])) s.NoBlock s.End) s.NoBlock) s.End) ≡ (RefusedAt 1 22 7)
unfolding computing
worked_6 = refl

worked_7 : body_verdict (record { predicates = ((record { name = name_cnt; args = (sort.Int ∷ []); cases = ([]) }) ∷ []); specs = ((record { is_void = false; name = name_main; params = ([]); vars = []; pre = (record { opened = []; facts = ([]); locals = []; items = ((Pred (record { name = name_cnt; args = ((Number (pos 0)) ∷ []) })) ∷ []) }); post = (record { opened = []; facts = ((Rel relation.Eq (Var 0 sort.Val) (Of unary.Vi (Number (pos 0)))) ∷ []); locals = []; items = ((Pred (record { name = name_cnt; args = ((Number (pos 1)) ∷ []) })) ∷ []) }) }) ∷ (record { is_void = true; name = name_bump; params = ([]); vars = ((name_n, sort.Int) ∷ []); pre = (record { opened = []; facts = ([]); locals = []; items = ((Pred (record { name = name_cnt; args = ((Var 0 sort.Int) ∷ []) })) ∷ []) }); post = (record { opened = []; facts = ([]); locals = []; items = ((Pred (record { name = name_cnt; args = ((Of2 binary.Add (Var 0 sort.Int) (Number (pos 1))) ∷ []) })) ∷ []) }) }) ∷ []) }) (record { is_void = false; name = name_main; params = ([]); vars = []; pre = (record { opened = []; facts = ([]); locals = []; items = ((Pred (record { name = name_cnt; args = ((Number (pos 0)) ∷ []) })) ∷ []) }); post = (record { opened = []; facts = ((Rel relation.Eq (Var 0 sort.Val) (Of unary.Vi (Number (pos 0)))) ∷ []); locals = []; items = ((Pred (record { name = name_cnt; args = ((Number (pos 1)) ∷ []) })) ∷ []) }) }) (record { temps = ([]); body = (c.Then (c.Call None name_bump ([])) (c.Then (c.Return (Some (c.Const 0))) c.End)) }) (s.Then 1 (s.Call ((Number (pos 0)) ∷ []) ([]) ([]) ([])) s.NoBlock (s.Then 2 (s.Return ([]) ([]) ([])) s.NoBlock s.End)) ≡ Accepted
unfolding computing
worked_7 = refl

worked_8 : body_verdict (record { predicates = ((record { name = name_cnt; args = (sort.Int ∷ []); cases = ((record { opened = []; facts = ([]); locals = []; items = ((Data (Number (pos 64)) (Global name_c) (Of2 binary.Cons (Of unary.Vi (Var 0 sort.Int)) Nil)) ∷ []) }) ∷ []) }) ∷ []); specs = ((record { is_void = true; name = name_bump; params = ([]); vars = ((name_n, sort.Int) ∷ []); pre = (record { opened = []; facts = ([]); locals = []; items = ((Pred (record { name = name_cnt; args = ((Var 0 sort.Int) ∷ []) })) ∷ []) }); post = (record { opened = (sort.Int ∷ []); facts = ([]); locals = []; items = ((Pred (record { name = name_cnt; args = ((Var 2 sort.Int) ∷ []) })) ∷ []) }) }) ∷ []) }) (record { is_void = true; name = name_bump; params = ([]); vars = ((name_n, sort.Int) ∷ []); pre = (record { opened = []; facts = ([]); locals = []; items = ((Pred (record { name = name_cnt; args = ((Var 0 sort.Int) ∷ []) })) ∷ []) }); post = (record { opened = (sort.Int ∷ []); facts = ([]); locals = []; items = ((Pred (record { name = name_cnt; args = ((Var 2 sort.Int) ∷ []) })) ∷ []) }) }) (record { temps = (name_t ∷ []); body = (c.Then (c.Load 0 (root.Global name_c 1) c.Here) (c.Then (c.Store (root.Global name_c 1) c.Here (c.Binary two.Add kind.Unsigned (c.Temp 0) (c.Const 1))) (c.Then (c.Return None) c.End))) }) (s.Then 1 (s.Unfold 0 (([]) ∷ [])) (s.WithBlock (s.Then 2 (s.Load 0 ([]) ([])) s.NoBlock (s.Then 3 (s.Store 0 ([]) ([])) s.NoBlock (s.Then 4 (s.Fold name_cnt 0 ((Of2 binary.Add (Named name_n) (Number (pos 1))) ∷ []) ([]) ([])) s.NoBlock (s.Then 5 (s.Return ((Of2 binary.Add (Named name_n) (Number (pos 1))) ∷ []) ([]) ([])) s.NoBlock s.End)))) s.NoBlock) s.End) ≡ Accepted
unfolding computing
worked_8 = refl

worked_9 : sub_verdict (record { predicates = ((record { name = name_cnt; args = (sort.Int ∷ []); cases = ((record { opened = []; facts = ([]); locals = []; items = ((Data (Number (pos 64)) (Global name_c) (Of2 binary.Cons (Of unary.Vi (Var 0 sort.Int)) Nil)) ∷ []) }) ∷ []) }) ∷ []); specs = ((record { is_void = true; name = name_bump; params = ([]); vars = ((name_n, sort.Int) ∷ []); pre = (record { opened = []; facts = ([]); locals = []; items = ((Pred (record { name = name_cnt; args = ((Var 0 sort.Int) ∷ []) })) ∷ []) }); post = (record { opened = (sort.Int ∷ []); facts = ([]); locals = []; items = ((Pred (record { name = name_cnt; args = ((Var 2 sort.Int) ∷ []) })) ∷ []) }) }) ∷ []) }) (record { is_void = true; name = name_bump; params = ([]); vars = ((name_n, sort.Int) ∷ []); pre = (record { opened = []; facts = ([]); locals = []; items = ((Pred (record { name = name_cnt; args = ((Var 0 sort.Int) ∷ []) })) ∷ []) }); post = (record { opened = (sort.Int ∷ []); facts = ([]); locals = []; items = ((Pred (record { name = name_cnt; args = ((Var 2 sort.Int) ∷ []) })) ∷ []) }) }) (record { is_void = true; name = name_bump; params = ([]); vars = ((name_n, sort.Int) ∷ []); pre = (record { opened = []; facts = ([]); locals = []; items = ((Pred (record { name = name_cnt; args = ((Var 0 sort.Int) ∷ []) })) ∷ []) }); post = (record { opened = []; facts = ([]); locals = []; items = ((Pred (record { name = name_cnt; args = ((Of2 binary.Add (Var 0 sort.Int) (Number (pos 1))) ∷ []) })) ∷ []) }) }) (s.Then 1 (s.Call ((Named name_n) ∷ []) ([]) ([]) (name_m ∷ [])) s.NoBlock (s.Then 2 (s.Return ([]) ([]) ([])) s.NoBlock s.End)) ≡ (RefusedAt 2 9 5)
unfolding computing
worked_9 = refl

worked_10 : init_verdict (record { predicates = ((record { name = name_cnt; args = (sort.Int ∷ []); cases = ((record { opened = []; facts = ([]); locals = []; items = ((Data (Number (pos 64)) (Global name_c) (Of2 binary.Cons (Of unary.Vi (Var 0 sort.Int)) Nil)) ∷ []) }) ∷ []) }) ∷ []); specs = ((record { is_void = true; name = name_bump; params = ([]); vars = ((name_n, sort.Int) ∷ []); pre = (record { opened = []; facts = ([]); locals = []; items = ((Pred (record { name = name_cnt; args = ((Var 0 sort.Int) ∷ []) })) ∷ []) }); post = (record { opened = (sort.Int ∷ []); facts = ([]); locals = []; items = ((Pred (record { name = name_cnt; args = ((Var 2 sort.Int) ∷ []) })) ∷ []) }) }) ∷ []) }) ((record { name = name_c; cells = 1; values = ([]) }) ∷ []) (record { opened = []; facts = ([]); locals = []; items = ((Pred (record { name = name_cnt; args = ((Number (pos 0)) ∷ []) })) ∷ []) }) (s.Then 1 (s.Fold name_cnt 0 ((Number (pos 0)) ∷ []) ([]) ([])) s.NoBlock (s.Then 2 (s.Meet ([]) ([])) s.NoBlock s.End)) ≡ Accepted
unfolding computing
worked_10 = refl

worked_11 : body_verdict (record { predicates = ((record { name = name_E; args = ([]); cases = ((record { opened = []; facts = ([]); locals = []; items = ([]) }) ∷ []) }) ∷ []); specs = ((record { is_void = false; name = name_main; params = ([]); vars = []; pre = (record { opened = []; facts = ([]); locals = []; items = ((Data (Number (pos 64)) (Global name_l) (Of2 binary.Cons (Of unary.Vi (Number (pos 0))) Nil)) ∷ []) }); post = (record { opened = []; facts = ([]); locals = []; items = ((Lock (Number (pos 64)) (Global name_l) (record { name = name_E; args = ([]) })) ∷ []) }) }) ∷ []) }) (record { is_void = false; name = name_main; params = ([]); vars = []; pre = (record { opened = []; facts = ([]); locals = []; items = ((Data (Number (pos 64)) (Global name_l) (Of2 binary.Cons (Of unary.Vi (Number (pos 0))) Nil)) ∷ []) }); post = (record { opened = []; facts = ([]); locals = []; items = ((Lock (Number (pos 64)) (Global name_l) (record { name = name_E; args = ([]) })) ∷ []) }) }) (record { temps = ([]); body = (c.Then (c.OnLock lock.Make (c.Address (root.Global name_l 1) c.Here)) (c.Then (c.OnLock lock.Release (c.Address (root.Global name_l 1) c.Here)) (c.Then (c.OnLock lock.Release (c.Address (root.Global name_l 1) c.Here)) (c.Then (c.Return (Some (c.Const 0))) c.End)))) }) (s.Then 1 (s.MakeLock 0 (record { name = name_E; args = ([]) }) ([]) ([])) s.NoBlock (s.Then 2 (s.Fold name_E 0 ([]) ([]) ([])) s.NoBlock (s.Then 3 (s.Release 1 2 ([])) s.NoBlock (s.Then 4 (s.Release 1 2 ([])) s.NoBlock (s.Then 5 (s.Return ([]) ([]) ([])) s.NoBlock s.End))))) ≡ (RefusedAt 4 18 1)
unfolding computing
worked_11 = refl

worked_12 : body_verdict (record { predicates = ((record { name = name_listrep; args = (sort.Val ∷ sort.List ∷ []); cases = ((record { opened = []; facts = ((Rel relation.Eq (Var 0 sort.Val) (Of unary.Vi (Number (pos 0)))) ∷ (Rel relation.Eq (Var 1 sort.List) Nil) ∷ []); locals = []; items = ([]) }) ∷ (record { opened = (sort.Val ∷ sort.List ∷ sort.Val ∷ []); facts = ((Rel relation.Eq (Var 1 sort.List) (Of2 binary.Cons (Var 2 sort.Val) (Var 3 sort.List))) ∷ []); locals = []; items = ((Data (Number (pos 64)) (Var 0 sort.Val) (Of2 binary.Cons (Var 2 sort.Val) (Of2 binary.Cons (Var 4 sort.Val) Nil))) ∷ (Pred (record { name = name_listrep; args = ((Var 4 sort.Val) ∷ (Var 3 sort.List) ∷ []) })) ∷ []) }) ∷ []) }) ∷ []); specs = ((record { is_void = false; name = name_reverse; params = (name_p ∷ []); vars = ((name_l, sort.List) ∷ (name_v, sort.Val) ∷ []); pre = (record { opened = []; facts = ([]); locals = ((name_p, (Var 1 sort.Val)) ∷ []); items = ((Pred (record { name = name_listrep; args = ((Var 1 sort.Val) ∷ (Var 0 sort.List) ∷ []) })) ∷ []) }); post = (record { opened = []; facts = ([]); locals = []; items = ((Pred (record { name = name_listrep; args = ((Var 2 sort.Val) ∷ (Of unary.Rev (Var 0 sort.List)) ∷ []) })) ∷ []) }) }) ∷ (record { is_void = false; name = name_main; params = ([]); vars = []; pre = (record { opened = []; facts = ([]); locals = []; items = ([]) }); post = (record { opened = []; facts = ((Rel relation.Eq (Var 0 sort.Val) (Of unary.Vi (Number (pos 0)))) ∷ []); locals = []; items = ([]) }) }) ∷ []) }) (record { is_void = false; name = name_reverse; params = (name_p ∷ []); vars = ((name_l, sort.List) ∷ (name_v, sort.Val) ∷ []); pre = (record { opened = []; facts = ([]); locals = ((name_p, (Var 1 sort.Val)) ∷ []); items = ((Pred (record { name = name_listrep; args = ((Var 1 sort.Val) ∷ (Var 0 sort.List) ∷ []) })) ∷ []) }); post = (record { opened = []; facts = ([]); locals = []; items = ((Pred (record { name = name_listrep; args = ((Var 2 sort.Val) ∷ (Of unary.Rev (Var 0 sort.List)) ∷ []) })) ∷ []) }) }) (record { temps = (name_p ∷ name_w ∷ name_t ∷ []); body = (c.Then (c.Set 1 (c.Const 0)) (c.Then (c.Loop (c.Then (c.If (c.Pointers (c.Temp 0) (c.Const 0) false) (c.Then (c.Load 2 (root.Temp 0) (c.Offset 1 c.Here)) (c.Then (c.Store (root.Temp 0) (c.Offset 1 c.Here) (c.Temp 1)) (c.Then (c.Set 1 (c.Temp 0)) (c.Then (c.Set 0 (c.Temp 2)) c.End)))) (c.Then c.Break c.End)) c.End)) (c.Then (c.Return (Some (c.Temp 1))) c.End))) }) (s.Then 1 (s.Set ([]) ([])) s.NoBlock (s.Then 2 (s.While (record { opened = (sort.List ∷ sort.List ∷ sort.Val ∷ sort.Val ∷ []); facts = ((Rel relation.Eq (Named name_l) (Of2 binary.App (Of unary.Rev (Var 0 sort.List)) (Var 1 sort.List))) ∷ []); locals = ((name_w, (Var 2 sort.Val)) ∷ (name_p, (Var 3 sort.Val)) ∷ []); items = ((Pred (record { name = name_listrep; args = ((Var 2 sort.Val) ∷ (Var 0 sort.List) ∷ []) })) ∷ (Pred (record { name = name_listrep; args = ((Var 3 sort.Val) ∷ (Var 1 sort.List) ∷ []) })) ∷ []) }) (record { opened = (sort.List ∷ sort.Val ∷ []); facts = ((Rel relation.Eq (Named name_l) (Of unary.Rev (Var 0 sort.List))) ∷ []); locals = ((name_w, (Var 1 sort.Val)) ∷ []); items = ((Pred (record { name = name_listrep; args = ((Var 1 sort.Val) ∷ (Var 0 sort.List) ∷ []) })) ∷ []) }) (name_a ∷ name_x ∷ []) ([]) (name_a ∷ name_b ∷ name_x ∷ name_y ∷ [])) (s.WithBlock (s.Then 3 (s.Fold name_listrep 0 ((Of unary.Vi (Number (pos 0))) ∷ Nil ∷ []) ([]) ([])) s.NoBlock (s.Then 4 (s.Meet (Nil ∷ (Named name_l) ∷ (Of unary.Vi (Number (pos 0))) ∷ (Named name_v) ∷ []) ([])) s.NoBlock s.End)) (s.WithBlock (s.Then 5 (s.Unfold 1 (([]) ∷ (name_h ∷ name_s ∷ name_q ∷ []) ∷ [])) (s.WithBlock (s.Then 6 (s.Subst name_y) s.NoBlock (s.Then 7 (s.Subst name_b) s.NoBlock (s.Then 8 (s.If ([]) ([]) ([]) ([])) (s.WithBlock (s.Then 9 (s.Absurd ([])) s.NoBlock s.End) (s.WithBlock (s.Then 10 (s.Law name_app_nil ((Of unary.Rev (Named name_a)) ∷ []) ([])) s.NoBlock (s.Then 11 (s.Rewrite false 2 (occurrence.Prop 0)) s.NoBlock (s.Then 12 (s.Break ((Named name_a) ∷ (Named name_x) ∷ []) ([])) s.NoBlock s.End))) s.NoBlock)) s.End))) (s.WithBlock (s.Then 13 (s.Subst name_b) s.NoBlock (s.Then 14 (s.If (1 ∷ []) ([]) ([]) ([])) (s.WithBlock (s.Then 15 (s.Load 1 ([]) ([])) s.NoBlock (s.Then 16 (s.Store 1 ([]) ([])) s.NoBlock (s.Then 17 (s.Set ([]) ([])) s.NoBlock (s.Then 18 (s.Set ([]) ([])) s.NoBlock (s.Then 19 (s.Fold name_listrep 1 ((Named name_y) ∷ (Of2 binary.Cons (Named name_h) (Named name_a)) ∷ []) ((Named name_h) ∷ (Named name_a) ∷ (Named name_x) ∷ []) ([])) s.NoBlock (s.Then 20 (s.Law name_rev_cons ((Named name_h) ∷ (Named name_a) ∷ []) ([])) s.NoBlock (s.Then 21 (s.Law name_app_assoc ((Of unary.Rev (Named name_a)) ∷ (Of2 binary.Cons (Named name_h) Nil) ∷ (Named name_s) ∷ []) ([])) s.NoBlock (s.Then 22 (s.Rewrite true 2 (occurrence.Prop 3)) s.NoBlock (s.Then 23 (s.Rewrite true 3 (occurrence.Prop 0)) s.NoBlock (s.Then 24 (s.Fall ((Of2 binary.Cons (Named name_h) (Named name_a)) ∷ (Named name_s) ∷ (Named name_y) ∷ (Named name_q) ∷ []) ([])) s.NoBlock s.End)))))))))) (s.WithBlock (s.Then 25 (s.Bounds 1 None ([])) s.NoBlock (s.Then 26 (s.Subst name_y) s.NoBlock (s.Then 27 (s.Absurd ([])) s.NoBlock s.End))) s.NoBlock)) s.End)) s.NoBlock)) s.End) s.NoBlock)) (s.Then 28 (s.Law name_rev_rev ((Named name_a) ∷ []) ([])) s.NoBlock (s.Then 29 (s.Rewrite true 0 (occurrence.Prop 1)) s.NoBlock (s.Then 30 (s.Rewrite true 1 (occurrence.Item 0)) s.NoBlock (s.Then 31 (s.Return ([]) ([]) ([])) s.NoBlock s.End)))))) ≡ Accepted
unfolding computing
worked_12 = refl

worked_13 : body_verdict (record { predicates = ((record { name = name_listrep; args = (sort.Val ∷ sort.List ∷ []); cases = ((record { opened = []; facts = ((Rel relation.Eq (Var 0 sort.Val) (Of unary.Vi (Number (pos 0)))) ∷ (Rel relation.Eq (Var 1 sort.List) Nil) ∷ []); locals = []; items = ([]) }) ∷ (record { opened = (sort.Val ∷ sort.List ∷ sort.Val ∷ []); facts = ((Rel relation.Eq (Var 1 sort.List) (Of2 binary.Cons (Var 2 sort.Val) (Var 3 sort.List))) ∷ []); locals = []; items = ((Data (Number (pos 64)) (Var 0 sort.Val) (Of2 binary.Cons (Var 2 sort.Val) (Of2 binary.Cons (Var 4 sort.Val) Nil))) ∷ (Pred (record { name = name_listrep; args = ((Var 4 sort.Val) ∷ (Var 3 sort.List) ∷ []) })) ∷ []) }) ∷ []) }) ∷ []); specs = ((record { is_void = false; name = name_reverse; params = (name_p ∷ []); vars = ((name_l, sort.List) ∷ (name_v, sort.Val) ∷ []); pre = (record { opened = []; facts = ([]); locals = ((name_p, (Var 1 sort.Val)) ∷ []); items = ((Pred (record { name = name_listrep; args = ((Var 1 sort.Val) ∷ (Var 0 sort.List) ∷ []) })) ∷ []) }); post = (record { opened = []; facts = ([]); locals = []; items = ((Pred (record { name = name_listrep; args = ((Var 2 sort.Val) ∷ (Of unary.Rev (Var 0 sort.List)) ∷ []) })) ∷ []) }) }) ∷ (record { is_void = false; name = name_main; params = ([]); vars = []; pre = (record { opened = []; facts = ([]); locals = []; items = ([]) }); post = (record { opened = []; facts = ((Rel relation.Eq (Var 0 sort.Val) (Of unary.Vi (Number (pos 0)))) ∷ []); locals = []; items = ([]) }) }) ∷ []) }) (record { is_void = false; name = name_main; params = ([]); vars = []; pre = (record { opened = []; facts = ([]); locals = []; items = ([]) }); post = (record { opened = []; facts = ((Rel relation.Eq (Var 0 sort.Val) (Of unary.Vi (Number (pos 0)))) ∷ []); locals = []; items = ([]) }) }) (record { temps = (name_p ∷ []); body = (c.Then (c.Call (Some 0) name_reverse ((c.Const 0) ∷ [])) (c.Then (c.Return (Some (c.Const 0))) c.End)) }) (s.Then 1 (s.Fold name_listrep 0 ((Of unary.Vi (Number (pos 0))) ∷ Nil ∷ []) ([]) ([])) s.NoBlock (s.Then 2 (s.Call (Nil ∷ (Of unary.Vi (Number (pos 0))) ∷ []) ([]) ([]) (name_z ∷ [])) s.NoBlock (s.Then 3 (s.Unfold 0 (([]) ∷ (name_h ∷ name_t ∷ name_q ∷ []) ∷ [])) (s.WithBlock (s.Then 4 (s.Return ([]) ([]) ([])) s.NoBlock s.End) (s.WithBlock (s.Then 5 (s.Absurd ([])) s.NoBlock s.End) s.NoBlock)) s.End))) ≡ Accepted
unfolding computing
worked_13 = refl

worked_14 : body_verdict (record { predicates = ((record { name = name_ctr; args = ([]); cases = ((record { opened = (sort.Int ∷ []); facts = ([]); locals = []; items = ((Data (Number (pos 64)) (Global name_x) (Of2 binary.Cons (Of unary.Vi (Var 0 sort.Int)) Nil)) ∷ []) }) ∷ []) }) ∷ (record { name = name_done; args = (sort.Val ∷ []); cases = ((record { opened = []; facts = ([]); locals = []; items = ((Lock (Number (pos 16)) (Global name_l) (record { name = name_ctr; args = ([]) })) ∷ (Lock (Number (pos 32)) (Var 0 sort.Val) (record { name = name_done; args = ((Var 0 sort.Val) ∷ []) })) ∷ []) }) ∷ []) }) ∷ []); specs = ((record { is_void = true; name = name_w; params = (name_j ∷ []); vars = ((name_v, sort.Val) ∷ []); pre = (record { opened = []; facts = ([]); locals = ((name_j, (Var 0 sort.Val)) ∷ []); items = ((Lock (Number (pos 16)) (Global name_l) (record { name = name_ctr; args = ([]) })) ∷ (Lock (Number (pos 32)) (Var 0 sort.Val) (record { name = name_done; args = ((Var 0 sort.Val) ∷ []) })) ∷ (Holds (Var 0 sort.Val) (record { name = name_done; args = ((Var 0 sort.Val) ∷ []) })) ∷ []) }); post = (record { opened = []; facts = ([]); locals = []; items = ([]) }) }) ∷ (record { is_void = false; name = name_main; params = ([]); vars = []; pre = (record { opened = []; facts = ([]); locals = []; items = ((Data (Number (pos 64)) (Global name_x) (Of2 binary.Cons (Of unary.Vi (Number (pos 0))) Nil)) ∷ (Data (Number (pos 64)) (Global name_l) (Of2 binary.Cons (Of unary.Vi (Number (pos 0))) Nil)) ∷ (Data (Number (pos 64)) (Global name_ja) (Of2 binary.Cons (Of unary.Vi (Number (pos 0))) Nil)) ∷ (Data (Number (pos 64)) (Global name_jb) (Of2 binary.Cons (Of unary.Vi (Number (pos 0))) Nil)) ∷ []) }); post = (record { opened = []; facts = ((Rel relation.Eq (Var 0 sort.Val) (Of unary.Vi (Number (pos 0)))) ∷ []); locals = []; items = ((Pred (record { name = name_ctr; args = ([]) })) ∷ (Data (Number (pos 64)) (Global name_l) (Of2 binary.Cons Undef Nil)) ∷ (Data (Number (pos 64)) (Global name_ja) (Of2 binary.Cons Undef Nil)) ∷ (Data (Number (pos 64)) (Global name_jb) (Of2 binary.Cons Undef Nil)) ∷ []) }) }) ∷ []) }) (record { is_void = true; name = name_w; params = (name_j ∷ []); vars = ((name_v, sort.Val) ∷ []); pre = (record { opened = []; facts = ([]); locals = ((name_j, (Var 0 sort.Val)) ∷ []); items = ((Lock (Number (pos 16)) (Global name_l) (record { name = name_ctr; args = ([]) })) ∷ (Lock (Number (pos 32)) (Var 0 sort.Val) (record { name = name_done; args = ((Var 0 sort.Val) ∷ []) })) ∷ (Holds (Var 0 sort.Val) (record { name = name_done; args = ((Var 0 sort.Val) ∷ []) })) ∷ []) }); post = (record { opened = []; facts = ([]); locals = []; items = ([]) }) }) (record { temps = (name_j ∷ name_t ∷ []); body = (c.Then (c.OnLock lock.Acquire (c.Address (root.Global name_l 1) c.Here)) (c.Then (c.Load 1 (root.Global name_x 1) c.Here) (c.Then (c.Store (root.Global name_x 1) c.Here (c.Binary two.Add kind.Unsigned (c.Temp 1) (c.Const 1))) (c.Then (c.OnLock lock.Release (c.Address (root.Global name_l 1) c.Here)) (c.Then (c.OnLock lock.Release (c.Temp 0)) (c.Then (c.Return None) c.End)))))) }) (s.Then 1 (s.Acquire 0 ([])) s.NoBlock (s.Then 2 (s.Unfold 4 ((name_n ∷ []) ∷ [])) (s.WithBlock (s.Then 3 (s.Load 4 ([]) ([])) s.NoBlock (s.Then 4 (s.Store 4 ([]) ([])) s.NoBlock (s.Then 5 (s.Fold name_ctr 0 ([]) ((Of2 binary.Add (Named name_n) (Number (pos 1))) ∷ []) ([])) s.NoBlock (s.Then 6 (s.Release 3 4 ([])) s.NoBlock (s.Then 7 (s.Fold name_done 0 ((Named name_v) ∷ []) ([]) ([])) s.NoBlock (s.Then 8 (s.Release 0 1 ([])) s.NoBlock (s.Then 9 (s.Return ([]) ([]) ([])) s.NoBlock s.End))))))) s.NoBlock) s.End)) ≡ Accepted
unfolding computing
worked_14 = refl

worked_15 : body_verdict (record { predicates = ((record { name = name_ctr; args = ([]); cases = ((record { opened = (sort.Int ∷ []); facts = ([]); locals = []; items = ((Data (Number (pos 64)) (Global name_x) (Of2 binary.Cons (Of unary.Vi (Var 0 sort.Int)) Nil)) ∷ []) }) ∷ []) }) ∷ (record { name = name_done; args = (sort.Val ∷ []); cases = ((record { opened = []; facts = ([]); locals = []; items = ((Lock (Number (pos 16)) (Global name_l) (record { name = name_ctr; args = ([]) })) ∷ (Lock (Number (pos 32)) (Var 0 sort.Val) (record { name = name_done; args = ((Var 0 sort.Val) ∷ []) })) ∷ []) }) ∷ []) }) ∷ []); specs = ((record { is_void = true; name = name_w; params = (name_j ∷ []); vars = ((name_v, sort.Val) ∷ []); pre = (record { opened = []; facts = ([]); locals = ((name_j, (Var 0 sort.Val)) ∷ []); items = ((Lock (Number (pos 16)) (Global name_l) (record { name = name_ctr; args = ([]) })) ∷ (Lock (Number (pos 32)) (Var 0 sort.Val) (record { name = name_done; args = ((Var 0 sort.Val) ∷ []) })) ∷ (Holds (Var 0 sort.Val) (record { name = name_done; args = ((Var 0 sort.Val) ∷ []) })) ∷ []) }); post = (record { opened = []; facts = ([]); locals = []; items = ([]) }) }) ∷ (record { is_void = false; name = name_main; params = ([]); vars = []; pre = (record { opened = []; facts = ([]); locals = []; items = ((Data (Number (pos 64)) (Global name_x) (Of2 binary.Cons (Of unary.Vi (Number (pos 0))) Nil)) ∷ (Data (Number (pos 64)) (Global name_l) (Of2 binary.Cons (Of unary.Vi (Number (pos 0))) Nil)) ∷ (Data (Number (pos 64)) (Global name_ja) (Of2 binary.Cons (Of unary.Vi (Number (pos 0))) Nil)) ∷ (Data (Number (pos 64)) (Global name_jb) (Of2 binary.Cons (Of unary.Vi (Number (pos 0))) Nil)) ∷ []) }); post = (record { opened = []; facts = ((Rel relation.Eq (Var 0 sort.Val) (Of unary.Vi (Number (pos 0)))) ∷ []); locals = []; items = ((Pred (record { name = name_ctr; args = ([]) })) ∷ (Data (Number (pos 64)) (Global name_l) (Of2 binary.Cons Undef Nil)) ∷ (Data (Number (pos 64)) (Global name_ja) (Of2 binary.Cons Undef Nil)) ∷ (Data (Number (pos 64)) (Global name_jb) (Of2 binary.Cons Undef Nil)) ∷ []) }) }) ∷ []) }) (record { is_void = false; name = name_main; params = ([]); vars = []; pre = (record { opened = []; facts = ([]); locals = []; items = ((Data (Number (pos 64)) (Global name_x) (Of2 binary.Cons (Of unary.Vi (Number (pos 0))) Nil)) ∷ (Data (Number (pos 64)) (Global name_l) (Of2 binary.Cons (Of unary.Vi (Number (pos 0))) Nil)) ∷ (Data (Number (pos 64)) (Global name_ja) (Of2 binary.Cons (Of unary.Vi (Number (pos 0))) Nil)) ∷ (Data (Number (pos 64)) (Global name_jb) (Of2 binary.Cons (Of unary.Vi (Number (pos 0))) Nil)) ∷ []) }); post = (record { opened = []; facts = ((Rel relation.Eq (Var 0 sort.Val) (Of unary.Vi (Number (pos 0)))) ∷ []); locals = []; items = ((Pred (record { name = name_ctr; args = ([]) })) ∷ (Data (Number (pos 64)) (Global name_l) (Of2 binary.Cons Undef Nil)) ∷ (Data (Number (pos 64)) (Global name_ja) (Of2 binary.Cons Undef Nil)) ∷ (Data (Number (pos 64)) (Global name_jb) (Of2 binary.Cons Undef Nil)) ∷ []) }) }) (record { temps = ([]); body = (c.Then (c.OnLock lock.Make (c.Address (root.Global name_l 1) c.Here)) (c.Then (c.OnLock lock.Release (c.Address (root.Global name_l 1) c.Here)) (c.Then (c.OnLock lock.Make (c.Address (root.Global name_ja 1) c.Here)) (c.Then (c.OnLock lock.Make (c.Address (root.Global name_jb 1) c.Here)) (c.Then (c.Spawn name_w (c.Address (root.Global name_ja 1) c.Here)) (c.Then (c.Spawn name_w (c.Address (root.Global name_jb 1) c.Here)) (c.Then (c.OnLock lock.Acquire (c.Address (root.Global name_ja 1) c.Here)) (c.Then (c.OnLock lock.Free (c.Address (root.Global name_ja 1) c.Here)) (c.Then (c.OnLock lock.Acquire (c.Address (root.Global name_jb 1) c.Here)) (c.Then (c.OnLock lock.Free (c.Address (root.Global name_jb 1) c.Here)) (c.Then (c.OnLock lock.Acquire (c.Address (root.Global name_l 1) c.Here)) (c.Then (c.OnLock lock.Free (c.Address (root.Global name_l 1) c.Here)) (c.Then (c.Return (Some (c.Const 0))) c.End))))))))))))) }) (s.Then 1 (s.MakeLock 1 (record { name = name_ctr; args = ([]) }) ([]) ([])) s.NoBlock (s.Then 2 (s.Fold name_ctr 0 ([]) ((Number (pos 0)) ∷ []) ([])) s.NoBlock (s.Then 3 (s.Release 3 4 ([])) s.NoBlock (s.Then 4 (s.MakeLock 0 (record { name = name_done; args = ((Global name_ja) ∷ []) }) ([]) ([])) s.NoBlock (s.Then 5 (s.MakeLock 0 (record { name = name_done; args = ((Global name_jb) ∷ []) }) ([]) ([])) s.NoBlock (s.Then 6 (s.Share 0 (Number (pos 16)) ([])) s.NoBlock (s.Then 7 (s.Share 5 (Number (pos 16)) ([])) s.NoBlock (s.Then 8 (s.Share 0 (Number (pos 32)) ([])) s.NoBlock (s.Then 9 (s.Share 1 (Number (pos 32)) ([])) s.NoBlock (s.Then 10 (s.Spawn ((Global name_ja) ∷ []) ([]) ([])) s.NoBlock (s.Then 11 (s.Spawn ((Global name_jb) ∷ []) ([]) ([])) s.NoBlock (s.Then 12 (s.Acquire 1 ([])) s.NoBlock (s.Then 13 (s.Unfold 4 (([]) ∷ [])) (s.WithBlock (s.Then 14 (s.Unshare 1 5 ([])) s.NoBlock (s.Then 15 (s.FreeLock 4 2 ([]) ([])) s.NoBlock (s.Then 16 (s.Acquire 1 ([])) s.NoBlock (s.Then 17 (s.Unfold 5 (([]) ∷ [])) (s.WithBlock (s.Then 18 (s.Unshare 1 6 ([])) s.NoBlock (s.Then 19 (s.FreeLock 5 3 ([]) ([])) s.NoBlock (s.Then 20 (s.Unshare 0 1 ([])) s.NoBlock (s.Then 21 (s.Unshare 1 3 ([])) s.NoBlock (s.Then 22 (s.Acquire 2 ([])) s.NoBlock (s.Then 23 (s.FreeLock 2 3 ([]) ([])) s.NoBlock (s.Then 24 (s.Return ([]) ([]) ([])) s.NoBlock s.End))))))) s.NoBlock) s.End)))) s.NoBlock) s.End))))))))))))) ≡ Accepted
unfolding computing
worked_15 = refl

worked_16 : body_verdict (record { predicates = ((record { name = name_ctr; args = ([]); cases = ((record { opened = (sort.Int ∷ []); facts = ([]); locals = []; items = ((Data (Number (pos 64)) (Global name_x) (Of2 binary.Cons (Of unary.Vi (Var 0 sort.Int)) Nil)) ∷ []) }) ∷ []) }) ∷ (record { name = name_done; args = (sort.Val ∷ []); cases = ((record { opened = []; facts = ([]); locals = []; items = ((Lock (Number (pos 16)) (Global name_l) (record { name = name_ctr; args = ([]) })) ∷ (Lock (Number (pos 32)) (Var 0 sort.Val) (record { name = name_done; args = ((Var 0 sort.Val) ∷ []) })) ∷ []) }) ∷ []) }) ∷ []); specs = ((record { is_void = true; name = name_w; params = (name_j ∷ []); vars = ((name_v, sort.Val) ∷ []); pre = (record { opened = []; facts = ([]); locals = ((name_j, (Var 0 sort.Val)) ∷ []); items = ((Lock (Number (pos 16)) (Global name_l) (record { name = name_ctr; args = ([]) })) ∷ (Lock (Number (pos 32)) (Var 0 sort.Val) (record { name = name_done; args = ((Var 0 sort.Val) ∷ []) })) ∷ (Holds (Var 0 sort.Val) (record { name = name_done; args = ((Var 0 sort.Val) ∷ []) })) ∷ []) }); post = (record { opened = []; facts = ([]); locals = []; items = ([]) }) }) ∷ (record { is_void = false; name = name_main; params = ([]); vars = []; pre = (record { opened = []; facts = ([]); locals = []; items = ((Data (Number (pos 64)) (Global name_x) (Of2 binary.Cons (Of unary.Vi (Number (pos 0))) Nil)) ∷ (Data (Number (pos 64)) (Global name_l) (Of2 binary.Cons (Of unary.Vi (Number (pos 0))) Nil)) ∷ (Data (Number (pos 64)) (Global name_ja) (Of2 binary.Cons (Of unary.Vi (Number (pos 0))) Nil)) ∷ (Data (Number (pos 64)) (Global name_jb) (Of2 binary.Cons (Of unary.Vi (Number (pos 0))) Nil)) ∷ []) }); post = (record { opened = []; facts = ((Rel relation.Eq (Var 0 sort.Val) (Of unary.Vi (Number (pos 0)))) ∷ []); locals = []; items = ((Pred (record { name = name_ctr; args = ([]) })) ∷ (Data (Number (pos 64)) (Global name_l) (Of2 binary.Cons Undef Nil)) ∷ (Data (Number (pos 64)) (Global name_ja) (Of2 binary.Cons Undef Nil)) ∷ (Data (Number (pos 64)) (Global name_jb) (Of2 binary.Cons Undef Nil)) ∷ []) }) }) ∷ []) }) (record { is_void = true; name = name_w; params = (name_j ∷ []); vars = ((name_v, sort.Val) ∷ []); pre = (record { opened = []; facts = ([]); locals = ((name_j, (Var 0 sort.Val)) ∷ []); items = ((Lock (Number (pos 16)) (Global name_l) (record { name = name_ctr; args = ([]) })) ∷ (Lock (Number (pos 32)) (Var 0 sort.Val) (record { name = name_done; args = ((Var 0 sort.Val) ∷ []) })) ∷ (Holds (Var 0 sort.Val) (record { name = name_done; args = ((Var 0 sort.Val) ∷ []) })) ∷ []) }); post = (record { opened = []; facts = ([]); locals = []; items = ([]) }) }) (record { temps = (name_j ∷ name_t ∷ []); body = (c.Then (c.OnLock lock.Acquire (c.Address (root.Global name_l 1) c.Here)) (c.Then (c.Load 1 (root.Global name_x 1) c.Here) (c.Then (c.Store (root.Global name_x 1) c.Here (c.Binary two.Add kind.Unsigned (c.Temp 1) (c.Const 1))) (c.Then (c.OnLock lock.Release (c.Address (root.Global name_l 1) c.Here)) (c.Then (c.Return None) c.End))))) }) (s.Then 1 (s.Acquire 0 ([])) s.NoBlock (s.Then 2 (s.Unfold 4 ((name_n ∷ []) ∷ [])) (s.WithBlock (s.Then 3 (s.Load 4 ([]) ([])) s.NoBlock (s.Then 4 (s.Store 4 ([]) ([])) s.NoBlock (s.Then 5 (s.Fold name_ctr 0 ([]) ((Of2 binary.Add (Named name_n) (Number (pos 1))) ∷ []) ([])) s.NoBlock (s.Then 6 (s.Release 3 4 ([])) s.NoBlock (s.Then 7 (s.Return ([]) ([]) ([])) s.NoBlock s.End))))) s.NoBlock) s.End)) ≡ (RefusedAt 7 9 5)
unfolding computing
worked_16 = refl

worked_17 : body_verdict (record { predicates = ([]); specs = ((record { is_void = true; name = name_w; params = (name_p ∷ []); vars = ((name_v, sort.Val) ∷ []); pre = (record { opened = []; facts = ([]); locals = ((name_p, (Var 0 sort.Val)) ∷ []); items = ((Data (Number (pos 32)) (Var 0 sort.Val) (Of2 binary.Cons (Of unary.Vi (Number (pos 0))) Nil)) ∷ []) }); post = (record { opened = []; facts = ([]); locals = []; items = ((Data (Number (pos 32)) (Var 0 sort.Val) (Of2 binary.Cons (Of unary.Vi (Number (pos 1))) Nil)) ∷ []) }) }) ∷ (record { is_void = false; name = name_main; params = ([]); vars = []; pre = (record { opened = []; facts = ([]); locals = []; items = ((Data (Number (pos 64)) (Global name_x) (Of2 binary.Cons (Of unary.Vi (Number (pos 0))) Nil)) ∷ []) }); post = (record { opened = []; facts = ([]); locals = []; items = ((Data (Number (pos 32)) (Global name_x) (Of2 binary.Cons (Of unary.Vi (Number (pos 2))) Nil)) ∷ []) }) }) ∷ []) }) (record { is_void = true; name = name_w; params = (name_p ∷ []); vars = ((name_v, sort.Val) ∷ []); pre = (record { opened = []; facts = ([]); locals = ((name_p, (Var 0 sort.Val)) ∷ []); items = ((Data (Number (pos 32)) (Var 0 sort.Val) (Of2 binary.Cons (Of unary.Vi (Number (pos 0))) Nil)) ∷ []) }); post = (record { opened = []; facts = ([]); locals = []; items = ((Data (Number (pos 32)) (Var 0 sort.Val) (Of2 binary.Cons (Of unary.Vi (Number (pos 1))) Nil)) ∷ []) }) }) (record { temps = (name_p ∷ []); body = (c.Then (c.Store (root.Temp 0) c.Here (c.Const 1)) (c.Then (c.Return None) c.End)) }) (s.Then 1 (s.Store 0 ([]) ([])) s.NoBlock (s.Then 2 (s.Return ([]) ([]) ([])) s.NoBlock s.End)) ≡ (RefusedAt 1 4 3)
unfolding computing
worked_17 = refl

worked_18 : body_verdict (record { predicates = ([]); specs = ((record { is_void = true; name = name_w; params = (name_p ∷ []); vars = ((name_v, sort.Val) ∷ []); pre = (record { opened = []; facts = ([]); locals = ((name_p, (Var 0 sort.Val)) ∷ []); items = ((Data (Number (pos 32)) (Var 0 sort.Val) (Of2 binary.Cons (Of unary.Vi (Number (pos 0))) Nil)) ∷ []) }); post = (record { opened = []; facts = ([]); locals = []; items = ((Data (Number (pos 32)) (Var 0 sort.Val) (Of2 binary.Cons (Of unary.Vi (Number (pos 1))) Nil)) ∷ []) }) }) ∷ (record { is_void = false; name = name_main; params = ([]); vars = []; pre = (record { opened = []; facts = ([]); locals = []; items = ((Data (Number (pos 64)) (Global name_x) (Of2 binary.Cons (Of unary.Vi (Number (pos 0))) Nil)) ∷ []) }); post = (record { opened = []; facts = ([]); locals = []; items = ((Data (Number (pos 32)) (Global name_x) (Of2 binary.Cons (Of unary.Vi (Number (pos 2))) Nil)) ∷ []) }) }) ∷ []) }) (record { is_void = false; name = name_main; params = ([]); vars = []; pre = (record { opened = []; facts = ([]); locals = []; items = ((Data (Number (pos 64)) (Global name_x) (Of2 binary.Cons (Of unary.Vi (Number (pos 0))) Nil)) ∷ []) }); post = (record { opened = []; facts = ([]); locals = []; items = ((Data (Number (pos 32)) (Global name_x) (Of2 binary.Cons (Of unary.Vi (Number (pos 2))) Nil)) ∷ []) }) }) (record { temps = ([]); body = (c.Then (c.Spawn name_w (c.Address (root.Global name_x 1) c.Here)) (c.Then (c.Store (root.Global name_x 1) c.Here (c.Const 2)) (c.Then (c.Return (Some (c.Const 0))) c.End))) }) (s.Then 1 (s.Share 0 (Number (pos 32)) ([])) s.NoBlock (s.Then 2 (s.Spawn ((Global name_x) ∷ []) ([]) ([])) s.NoBlock (s.Then 3 (s.Store 0 ([]) ([])) s.NoBlock (s.Then 4 (s.Return ([]) ([]) ([])) s.NoBlock s.End)))) ≡ (RefusedAt 3 4 3)
unfolding computing
worked_18 = refl

worked_19 : body_verdict (record { predicates = ([]); specs = ((record { is_void = false; name = name_f; params = (name_n ∷ []); vars = ((name_a, sort.Int) ∷ []); pre = (record { opened = []; facts = ((Rel relation.Le (Number (pos 0)) (Var 0 sort.Int)) ∷ (Rel relation.Le (Var 0 sort.Int) (Number (pos 9))) ∷ []); locals = ((name_n, (Of unary.Vi (Var 0 sort.Int))) ∷ []); items = ([]) }); post = (record { opened = []; facts = ((Rel relation.Eq (Var 1 sort.Val) (Of unary.Vi (Number (pos 0)))) ∷ []); locals = []; items = ([]) }) }) ∷ []) }) (record { is_void = false; name = name_f; params = (name_n ∷ []); vars = ((name_a, sort.Int) ∷ []); pre = (record { opened = []; facts = ((Rel relation.Le (Number (pos 0)) (Var 0 sort.Int)) ∷ (Rel relation.Le (Var 0 sort.Int) (Number (pos 9))) ∷ []); locals = ((name_n, (Of unary.Vi (Var 0 sort.Int))) ∷ []); items = ([]) }); post = (record { opened = []; facts = ((Rel relation.Eq (Var 1 sort.Val) (Of unary.Vi (Number (pos 0)))) ∷ []); locals = []; items = ([]) }) }) (record { temps = (name_n ∷ name_t ∷ []); body = (c.Then (c.If (c.Nonzero kind.Signed (c.Binary two.Eq kind.Signed (c.Temp 0) (c.Const 0))) (c.Then (c.Return (Some (c.Const 0))) c.End) c.End) (c.Then (c.Set 1 (c.Binary two.Sub kind.Signed (c.Temp 0) (c.Const 1))) (c.Then (c.Call (Some 1) name_f ((c.Temp 1) ∷ [])) (c.Then (c.Return (Some (c.Temp 1))) c.End)))) }) (s.Then 1 (s.If ([]) ((record { lines = ((line.Comb (((pos 1), 0) ∷ ((pos 1), 2) ∷ [])) ∷ []) }) ∷ (record { lines = ((line.Comb (((pos 1), 1) ∷ ((pos 1), 2) ∷ [])) ∷ []) }) ∷ []) ([]) ([])) (s.WithBlock (s.Then 2 (s.Return ([]) ([]) ([])) s.NoBlock s.End) (s.WithBlock (s.Then 3 (s.Set ([]) ((record { lines = ((line.Comb (((pos 1), 0) ∷ ((pos 1), 2) ∷ [])) ∷ []) }) ∷ (record { lines = ((line.Comb (((pos 1), 1) ∷ ((pos 1), 2) ∷ [])) ∷ []) }) ∷ (record { lines = ((line.Comb (((pos 1), 0) ∷ ((pos 1), 2) ∷ [])) ∷ []) }) ∷ (record { lines = ((line.Comb (((pos 1), 1) ∷ ((pos 1), 2) ∷ [])) ∷ []) }) ∷ [])) s.NoBlock (s.Then 4 (s.Law name_ne_lt ((Number (pos 0)) ∷ (Named name_a) ∷ []) ([])) s.NoBlock (s.Then 5 (s.Call ((Of2 binary.Sub (Named name_a) (Number (pos 1))) ∷ []) ([]) ((record { lines = ((line.Comb (((pos 1), 1) ∷ ((pos 1), 3) ∷ [])) ∷ []) }) ∷ []) (name_z ∷ [])) s.NoBlock (s.Then 6 (s.Return ([]) ([]) ([])) s.NoBlock s.End)))) s.NoBlock)) s.End) ≡ Accepted
unfolding computing
worked_19 = refl

worked_20 : body_verdict (record { predicates = ([]); specs = ((record { is_void = false; name = name_f; params = (name_n ∷ []); vars = ((name_a, sort.Int) ∷ []); pre = (record { opened = []; facts = ((Rel relation.Le (Number (pos 0)) (Var 0 sort.Int)) ∷ (Rel relation.Le (Var 0 sort.Int) (Number (pos 9))) ∷ []); locals = ((name_n, (Of unary.Vi (Var 0 sort.Int))) ∷ []); items = ([]) }); post = (record { opened = []; facts = ((Rel relation.Eq (Var 1 sort.Val) (Of unary.Vi (Number (pos 0)))) ∷ []); locals = []; items = ([]) }) }) ∷ []) }) (record { is_void = false; name = name_f; params = (name_n ∷ []); vars = ((name_a, sort.Int) ∷ []); pre = (record { opened = []; facts = ((Rel relation.Le (Number (pos 0)) (Var 0 sort.Int)) ∷ (Rel relation.Le (Var 0 sort.Int) (Number (pos 9))) ∷ []); locals = ((name_n, (Of unary.Vi (Var 0 sort.Int))) ∷ []); items = ([]) }); post = (record { opened = []; facts = ((Rel relation.Eq (Var 1 sort.Val) (Of unary.Vi (Number (pos 0)))) ∷ []); locals = []; items = ([]) }) }) (record { temps = (name_n ∷ name_t ∷ []); body = (c.Then (c.If (c.Nonzero kind.Signed (c.Binary two.Eq kind.Signed (c.Temp 0) (c.Const 0))) (c.Then (c.Return (Some (c.Const 0))) c.End) c.End) (c.Then (c.Set 1 (c.Binary two.Sub kind.Signed (c.Temp 0) (c.Const 1))) (c.Then (c.Call (Some 1) name_f ((c.Temp 1) ∷ [])) (c.Then (c.Return (Some (c.Temp 1))) c.End)))) }) (s.Then 1 (s.If ([]) ((record { lines = ((line.Comb (((pos 1), 0) ∷ ((pos 1), 2) ∷ [])) ∷ []) }) ∷ (record { lines = ((line.Comb (((pos 1), 1) ∷ ((pos 1), 2) ∷ [])) ∷ []) }) ∷ []) ([]) ([])) (s.WithBlock (s.Then 2 (s.Return ([]) ([]) ([])) s.NoBlock s.End) (s.WithBlock s.End s.NoBlock)) s.End) ≡ (RefusedAt 3 0 10)
unfolding computing
worked_20 = refl

worked_21 : body_verdict (record { predicates = ([]); specs = ((record { is_void = false; name = name_f; params = (name_n ∷ []); vars = ((name_a, sort.Int) ∷ []); pre = (record { opened = []; facts = ((Rel relation.Le (Number (pos 0)) (Var 0 sort.Int)) ∷ (Rel relation.Le (Var 0 sort.Int) (Number (pos 9))) ∷ []); locals = ((name_n, (Of unary.Vi (Var 0 sort.Int))) ∷ []); items = ([]) }); post = (record { opened = []; facts = ((Rel relation.Eq (Var 1 sort.Val) (Of unary.Vi (Number (pos 0)))) ∷ []); locals = []; items = ([]) }) }) ∷ []) }) (record { is_void = false; name = name_f; params = (name_n ∷ []); vars = ((name_a, sort.Int) ∷ []); pre = (record { opened = []; facts = ((Rel relation.Le (Number (pos 0)) (Var 0 sort.Int)) ∷ (Rel relation.Le (Var 0 sort.Int) (Number (pos 9))) ∷ []); locals = ((name_n, (Of unary.Vi (Var 0 sort.Int))) ∷ []); items = ([]) }); post = (record { opened = []; facts = ((Rel relation.Eq (Var 1 sort.Val) (Of unary.Vi (Number (pos 0)))) ∷ []); locals = []; items = ([]) }) }) (record { temps = (name_n ∷ name_t ∷ []); body = (c.Then (c.If (c.Nonzero kind.Signed (c.Binary two.Eq kind.Signed (c.Temp 0) (c.Const 0))) (c.Then (c.Return (Some (c.Const 0))) c.End) c.End) (c.Then (c.Set 1 (c.Binary two.Sub kind.Signed (c.Temp 0) (c.Const 1))) (c.Then (c.Call (Some 1) name_f ((c.Temp 1) ∷ [])) (c.Then (c.Return (Some (c.Temp 1))) c.End)))) }) (s.Then 1 (s.If ([]) ((record { lines = ((line.Comb (((pos 1), 0) ∷ ((pos 1), 2) ∷ [])) ∷ []) }) ∷ (record { lines = ((line.Comb (((pos 1), 1) ∷ ((pos 1), 2) ∷ [])) ∷ []) }) ∷ []) ([]) ([])) (s.WithBlock (s.Then 2 (s.Return ([]) ([]) ([])) s.NoBlock s.End) (s.WithBlock (s.Then 3 (s.Set ([]) ((record { lines = ((line.Comb (((pos 1), 0) ∷ ((pos 1), 2) ∷ [])) ∷ []) }) ∷ (record { lines = ((line.Comb (((pos 1), 1) ∷ ((pos 1), 2) ∷ [])) ∷ []) }) ∷ (record { lines = ((line.Comb (((pos 1), 0) ∷ ((pos 1), 2) ∷ [])) ∷ []) }) ∷ (record { lines = ((line.Comb (((pos 1), 1) ∷ ((pos 1), 2) ∷ [])) ∷ []) }) ∷ [])) s.NoBlock (s.Then 4 (s.Call ((Of2 binary.Sub (Named name_a) (Number (pos 1))) ∷ []) ([]) ((record { lines = ((line.Comb (((pos 1), 1) ∷ ((pos 1), 3) ∷ [])) ∷ []) }) ∷ []) (name_z ∷ [])) s.NoBlock (s.Then 5 (s.Return ([]) ([]) ([])) s.NoBlock s.End))) s.NoBlock)) s.End) ≡ (RefusedAt 4 13 3)
unfolding computing
worked_21 = refl

worked_22 : body_verdict (record { predicates = ([]); specs = ((record { is_void = false; name = name_main; params = ([]); vars = []; pre = (record { opened = []; facts = ([]); locals = []; items = ([]) }); post = (record { opened = []; facts = ((Rel relation.Eq (Var 0 sort.Val) (Of unary.Vi (Number (pos 5)))) ∷ []); locals = []; items = ([]) }) }) ∷ []) }) (record { is_void = false; name = name_main; params = ([]); vars = []; pre = (record { opened = []; facts = ([]); locals = []; items = ([]) }); post = (record { opened = []; facts = ((Rel relation.Eq (Var 0 sort.Val) (Of unary.Vi (Number (pos 5)))) ∷ []); locals = []; items = ([]) }) }) (record { temps = (name_x ∷ []); body = (c.Then (c.Set 0 (c.Const 2147483647)) (c.Then (c.Set 0 (c.Binary two.Add kind.Signed (c.Temp 0) (c.Const 1))) (c.Then (c.Return (Some (c.Temp 0))) c.End))) }) (s.Then 1 (s.Set ([]) ([])) s.NoBlock (s.Then 2 (s.Set ([]) ([])) s.NoBlock (s.Then 3 (s.Return ([]) ([]) ([])) s.NoBlock s.End))) ≡ (RefusedAt 2 2 3)
unfolding computing
worked_22 = refl

worked_23 : body_verdict (record { predicates = ([]); specs = ((record { is_void = false; name = name_main; params = ([]); vars = []; pre = (record { opened = []; facts = ([]); locals = []; items = ([]) }); post = (record { opened = []; facts = ((Rel relation.Eq (Var 0 sort.Val) (Of unary.Vi (Number (pos 5)))) ∷ []); locals = []; items = ([]) }) }) ∷ []) }) (record { is_void = false; name = name_main; params = ([]); vars = []; pre = (record { opened = []; facts = ([]); locals = []; items = ([]) }); post = (record { opened = []; facts = ((Rel relation.Eq (Var 0 sort.Val) (Of unary.Vi (Number (pos 5)))) ∷ []); locals = []; items = ([]) }) }) (record { temps = (name_t ∷ []); body = (c.Then (c.Set 0 (c.Binary two.Add kind.Signed (c.Const 2) (c.Const 3))) (c.Then (c.Return (Some (c.Temp 0))) c.End)) }) (s.Then 1 (s.Set ([]) ([])) s.NoBlock (s.Then 2 (s.Return ([]) ([]) ([])) s.NoBlock s.End)) ≡ Accepted
unfolding computing
worked_23 = refl

worked_24 : body_verdict (record { predicates = ([]); specs = ((record { is_void = false; name = name_main; params = ([]); vars = []; pre = (record { opened = []; facts = ([]); locals = []; items = ([]) }); post = (record { opened = []; facts = ((Rel relation.Eq (Var 0 sort.Val) (Of unary.Vi (Number (pos 6)))) ∷ []); locals = []; items = ([]) }) }) ∷ []) }) (record { is_void = false; name = name_main; params = ([]); vars = []; pre = (record { opened = []; facts = ([]); locals = []; items = ([]) }); post = (record { opened = []; facts = ((Rel relation.Eq (Var 0 sort.Val) (Of unary.Vi (Number (pos 6)))) ∷ []); locals = []; items = ([]) }) }) (record { temps = (name_t ∷ []); body = (c.Then (c.Set 0 (c.Binary two.Add kind.Signed (c.Const 2) (c.Const 3))) (c.Then (c.Return (Some (c.Temp 0))) c.End)) }) (s.Then 1 (s.Set ([]) ([])) s.NoBlock (s.Then 2 (s.Return ([]) ([]) ([])) s.NoBlock s.End)) ≡ (RefusedAt 2 9 3)
unfolding computing
worked_24 = refl

worked_25 : body_verdict (record { predicates = ([]); specs = ((record { is_void = false; name = name_main; params = ([]); vars = []; pre = (record { opened = []; facts = ([]); locals = []; items = ([]) }); post = (record { opened = []; facts = ((Rel relation.Eq (Var 0 sort.Val) (Of unary.Vi (Number (pos 0)))) ∷ []); locals = []; items = ([]) }) }) ∷ []) }) (record { is_void = false; name = name_main; params = ([]); vars = []; pre = (record { opened = []; facts = ([]); locals = []; items = ([]) }); post = (record { opened = []; facts = ((Rel relation.Eq (Var 0 sort.Val) (Of unary.Vi (Number (pos 0)))) ∷ []); locals = []; items = ([]) }) }) (record { temps = (name_x ∷ []); body = (c.Then (c.Set 0 (c.Const 4294967295)) (c.Then (c.Set 0 (c.Binary two.Add kind.Unsigned (c.Temp 0) (c.Const 1))) (c.Then (c.Return (Some (c.Temp 0))) c.End))) }) (s.Then 1 (s.Set ([]) ([])) s.NoBlock (s.Then 2 (s.Set ([]) ([])) s.NoBlock (s.Then 3 (s.Return ([]) ([]) ([])) s.NoBlock s.End))) ≡ Accepted
unfolding computing
worked_25 = refl
