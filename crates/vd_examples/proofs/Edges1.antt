-- Steps at the edges of facts, laws, items and values.
use Rattle.std.specs.Prelude.{◌≡◌, refl, pos, [], ◌∷◌, true, false, Some, None}
use Rattle.vd_terms.specs.Terms.{Number, Var, Named, Global, Undef, Nil, Of, Of2, Of3}
use Rattle.vd_terms.specs.declared.assertion.FactOf.TheVariants.{Rel, IsPtr}
use Rattle.vd_terms.specs.declared.assertion.ItemOf.TheVariants.{Data, Lock, Holds, Pred}
use Rattle.vd_rules.specs.Computing.{computing}
use Rattle.vd_rules.specs.Verdicts.{Accepted, RefusedAt, body_verdict}
use Rattle.vd_terms.specs.declared.operation.Unary.TheVariants as unary
use Rattle.vd_terms.specs.declared.operation.Binary.TheVariants as binary
use Rattle.vd_terms.specs.declared.operation.Ternary.TheVariants as ternary
use Rattle.vd_logic.specs.declared.term.Sort.TheVariants as sort
use Rattle.vd_logic.specs.declared.assertion.Rel.TheVariants as relation
use Rattle.vd_logic.specs.declared.step.CertLine.TheVariants as line
use Rattle.vd_logic.specs.declared.step.Occurrence.TheVariants as occurrence
use Rattle.vd_logic.specs.declared.step.Forgotten.TheVariants as forgotten
use Rattle.vd_clight.specs.declared.syntax.BinOp.TheVariants as two
use Rattle.vd_clight.specs.declared.typed.Kind.TheVariants as kind
use Rattle.vd_clight.specs.declared.typed.Root.TheVariants as root
use Rattle.vd_clight.specs.declared.typed.LockOp.TheVariants as lock
use Rattle.vd_steps.specs.Code as c
use Rattle.vd_steps.specs.Script as s
use Rattle.vd_examples.specs.Names.{name_A, name_B, name_a, name_app_assoc, name_app_nil, name_b, name_f, name_h, name_k, name_l, name_listrep, name_m, name_main, name_p, name_q, name_rev_cons, name_rev_rev, name_reverse, name_s, name_t, name_v, name_w, name_x, name_y, name_z}

edges_1 : body_verdict (record { predicates = ([]); specs = ((record { is_void = false; name = name_f; params = (name_p ∷ []); vars = ((name_a, sort.Int) ∷ []); pre = (record { opened = []; facts = ((Rel relation.Le (Of2 binary.Sub (Number (pos 0)) (Number (pos 2147483648))) (Var 0 sort.Int)) ∷ (Rel relation.Le (Var 0 sort.Int) (Number (pos 5))) ∷ []); locals = ((name_p, (Of unary.Vi (Var 0 sort.Int))) ∷ []); items = ([]) }); post = (record { opened = []; facts = ([]); locals = []; items = ([]) }) }) ∷ []) }) (record { is_void = false; name = name_f; params = (name_p ∷ []); vars = ((name_a, sort.Int) ∷ []); pre = (record { opened = []; facts = ((Rel relation.Le (Of2 binary.Sub (Number (pos 0)) (Number (pos 2147483648))) (Var 0 sort.Int)) ∷ (Rel relation.Le (Var 0 sort.Int) (Number (pos 5))) ∷ []); locals = ((name_p, (Of unary.Vi (Var 0 sort.Int))) ∷ []); items = ([]) }); post = (record { opened = []; facts = ([]); locals = []; items = ([]) }) }) (record { temps = (name_p ∷ name_t ∷ []); body = (c.Then (c.Set 1 (c.Binary two.Add kind.Signed (c.Temp 0) (c.Const 0))) (c.Then (c.Return (Some (c.Temp 1))) c.End)) }) (s.Then 1 (s.Set ([]) ((record { lines = ((line.Comb (((pos 1), 1) ∷ ((pos 1), 2) ∷ [])) ∷ []) }) ∷ (record { lines = ((line.Comb (((pos 1), 1) ∷ ((pos 1), 2) ∷ [])) ∷ []) }) ∷ [])) s.NoBlock (s.Then 2 (s.Return ([]) ([]) ([])) s.NoBlock s.End)) ≡ Accepted
unfolding computing
edges_1 = refl

edges_2 : body_verdict (record { predicates = ([]); specs = ((record { is_void = false; name = name_f; params = (name_p ∷ []); vars = ((name_a, sort.Int) ∷ []); pre = (record { opened = []; facts = ((Rel relation.Le (Of2 binary.Sub (Number (pos 0)) (Number (pos 2147483649))) (Var 0 sort.Int)) ∷ (Rel relation.Le (Var 0 sort.Int) (Number (pos 5))) ∷ []); locals = ((name_p, (Of unary.Vi (Var 0 sort.Int))) ∷ []); items = ([]) }); post = (record { opened = []; facts = ([]); locals = []; items = ([]) }) }) ∷ []) }) (record { is_void = false; name = name_f; params = (name_p ∷ []); vars = ((name_a, sort.Int) ∷ []); pre = (record { opened = []; facts = ((Rel relation.Le (Of2 binary.Sub (Number (pos 0)) (Number (pos 2147483649))) (Var 0 sort.Int)) ∷ (Rel relation.Le (Var 0 sort.Int) (Number (pos 5))) ∷ []); locals = ((name_p, (Of unary.Vi (Var 0 sort.Int))) ∷ []); items = ([]) }); post = (record { opened = []; facts = ([]); locals = []; items = ([]) }) }) (record { temps = (name_p ∷ name_t ∷ []); body = (c.Then (c.Set 1 (c.Binary two.Add kind.Signed (c.Temp 0) (c.Const 0))) (c.Then (c.Return (Some (c.Temp 1))) c.End)) }) (s.Then 1 (s.Set ([]) ((record { lines = ((line.Comb (((pos 1), 0) ∷ ((pos 1), 2) ∷ [])) ∷ []) }) ∷ (record { lines = ((line.Comb (((pos 1), 1) ∷ ((pos 1), 2) ∷ [])) ∷ []) }) ∷ (record { lines = ((line.Comb (((pos 1), 0) ∷ ((pos 1), 2) ∷ [])) ∷ []) }) ∷ (record { lines = ((line.Comb (((pos 1), 1) ∷ ((pos 1), 2) ∷ [])) ∷ []) }) ∷ [])) s.NoBlock (s.Then 2 (s.Return ([]) ([]) ([])) s.NoBlock s.End)) ≡ (RefusedAt 1 2 3)
unfolding computing
edges_2 = refl

edges_3 : body_verdict (record { predicates = ([]); specs = ((record { is_void = false; name = name_f; params = (name_p ∷ []); vars = ((name_a, sort.Int) ∷ []); pre = (record { opened = []; facts = ((Rel relation.Le (Number (pos 0)) (Var 0 sort.Int)) ∷ (Rel relation.Le (Var 0 sort.Int) (Number (pos 2147483647))) ∷ []); locals = ((name_p, (Of unary.Vi (Var 0 sort.Int))) ∷ []); items = ([]) }); post = (record { opened = []; facts = ([]); locals = []; items = ([]) }) }) ∷ []) }) (record { is_void = false; name = name_f; params = (name_p ∷ []); vars = ((name_a, sort.Int) ∷ []); pre = (record { opened = []; facts = ((Rel relation.Le (Number (pos 0)) (Var 0 sort.Int)) ∷ (Rel relation.Le (Var 0 sort.Int) (Number (pos 2147483647))) ∷ []); locals = ((name_p, (Of unary.Vi (Var 0 sort.Int))) ∷ []); items = ([]) }); post = (record { opened = []; facts = ([]); locals = []; items = ([]) }) }) (record { temps = (name_p ∷ name_t ∷ []); body = (c.Then (c.Set 1 (c.Binary two.Add kind.Signed (c.Temp 0) (c.Const 1))) (c.Then (c.Return (Some (c.Temp 1))) c.End)) }) (s.Then 1 (s.Set ([]) ((record { lines = ((line.Comb (((pos 1), 0) ∷ ((pos 1), 2) ∷ [])) ∷ []) }) ∷ (record { lines = ((line.Comb (((pos 1), 0) ∷ ((pos 1), 2) ∷ [])) ∷ []) }) ∷ (record { lines = ((line.Comb (((pos 1), 1) ∷ ((pos 1), 2) ∷ [])) ∷ []) }) ∷ [])) s.NoBlock (s.Then 2 (s.Return ([]) ([]) ([])) s.NoBlock s.End)) ≡ (RefusedAt 1 2 3)
unfolding computing
edges_3 = refl

edges_4 : body_verdict (record { predicates = ([]); specs = ((record { is_void = false; name = name_f; params = (name_p ∷ name_q ∷ []); vars = ((name_a, sort.Int) ∷ (name_b, sort.Int) ∷ []); pre = (record { opened = []; facts = ((Rel relation.Le (Of2 binary.Sub (Number (pos 0)) (Number (pos 2147483647))) (Var 0 sort.Int)) ∷ (Rel relation.Le (Var 0 sort.Int) (Number (pos 5))) ∷ (Rel relation.Ne (Var 1 sort.Int) (Number (pos 0))) ∷ (Rel relation.Le (Of2 binary.Sub (Number (pos 0)) (Number (pos 5))) (Var 1 sort.Int)) ∷ (Rel relation.Le (Var 1 sort.Int) (Number (pos 5))) ∷ []); locals = ((name_p, (Of unary.Vi (Var 0 sort.Int))) ∷ (name_q, (Of unary.Vi (Var 1 sort.Int))) ∷ []); items = ([]) }); post = (record { opened = []; facts = ([]); locals = []; items = ([]) }) }) ∷ []) }) (record { is_void = false; name = name_f; params = (name_p ∷ name_q ∷ []); vars = ((name_a, sort.Int) ∷ (name_b, sort.Int) ∷ []); pre = (record { opened = []; facts = ((Rel relation.Le (Of2 binary.Sub (Number (pos 0)) (Number (pos 2147483647))) (Var 0 sort.Int)) ∷ (Rel relation.Le (Var 0 sort.Int) (Number (pos 5))) ∷ (Rel relation.Ne (Var 1 sort.Int) (Number (pos 0))) ∷ (Rel relation.Le (Of2 binary.Sub (Number (pos 0)) (Number (pos 5))) (Var 1 sort.Int)) ∷ (Rel relation.Le (Var 1 sort.Int) (Number (pos 5))) ∷ []); locals = ((name_p, (Of unary.Vi (Var 0 sort.Int))) ∷ (name_q, (Of unary.Vi (Var 1 sort.Int))) ∷ []); items = ([]) }); post = (record { opened = []; facts = ([]); locals = []; items = ([]) }) }) (record { temps = (name_p ∷ name_q ∷ name_t ∷ []); body = (c.Then (c.Set 2 (c.Binary two.Div kind.Signed (c.Temp 0) (c.Temp 1))) (c.Then (c.Return (Some (c.Temp 2))) c.End)) }) (s.Then 1 (s.Set ([]) ((record { lines = ((line.Comb (((pos 1), 0) ∷ ((pos 1), 4) ∷ [])) ∷ []) }) ∷ (record { lines = ((line.Comb (((pos 1), 1) ∷ ((pos 1), 4) ∷ [])) ∷ []) }) ∷ (record { lines = ((line.Comb (((pos 1), 2) ∷ ((pos 1), 4) ∷ [])) ∷ []) }) ∷ (record { lines = ((line.Comb (((pos 1), 3) ∷ ((pos 1), 4) ∷ [])) ∷ []) }) ∷ (record { lines = ((line.Comb (((pos 1), 0) ∷ ((pos 1), 4) ∷ [])) ∷ []) }) ∷ [])) s.NoBlock (s.Then 2 (s.Return ([]) ([]) ([])) s.NoBlock s.End)) ≡ (RefusedAt 1 2 3)
unfolding computing
edges_4 = refl

edges_5 : body_verdict (record { predicates = ([]); specs = ((record { is_void = false; name = name_f; params = (name_p ∷ name_q ∷ []); vars = ((name_a, sort.Int) ∷ (name_b, sort.Int) ∷ []); pre = (record { opened = []; facts = ((Rel relation.Le (Of2 binary.Sub (Number (pos 0)) (Number (pos 2147483648))) (Var 0 sort.Int)) ∷ (Rel relation.Le (Var 0 sort.Int) (Number (pos 5))) ∷ (Rel relation.Ne (Var 1 sort.Int) (Number (pos 0))) ∷ (Rel relation.Le (Of2 binary.Sub (Number (pos 0)) (Number (pos 5))) (Var 1 sort.Int)) ∷ (Rel relation.Le (Var 1 sort.Int) (Number (pos 5))) ∷ []); locals = ((name_p, (Of unary.Vi (Var 0 sort.Int))) ∷ (name_q, (Of unary.Vi (Var 1 sort.Int))) ∷ []); items = ([]) }); post = (record { opened = []; facts = ([]); locals = []; items = ([]) }) }) ∷ []) }) (record { is_void = false; name = name_f; params = (name_p ∷ name_q ∷ []); vars = ((name_a, sort.Int) ∷ (name_b, sort.Int) ∷ []); pre = (record { opened = []; facts = ((Rel relation.Le (Of2 binary.Sub (Number (pos 0)) (Number (pos 2147483648))) (Var 0 sort.Int)) ∷ (Rel relation.Le (Var 0 sort.Int) (Number (pos 5))) ∷ (Rel relation.Ne (Var 1 sort.Int) (Number (pos 0))) ∷ (Rel relation.Le (Of2 binary.Sub (Number (pos 0)) (Number (pos 5))) (Var 1 sort.Int)) ∷ (Rel relation.Le (Var 1 sort.Int) (Number (pos 5))) ∷ []); locals = ((name_p, (Of unary.Vi (Var 0 sort.Int))) ∷ (name_q, (Of unary.Vi (Var 1 sort.Int))) ∷ []); items = ([]) }); post = (record { opened = []; facts = ([]); locals = []; items = ([]) }) }) (record { temps = (name_p ∷ name_q ∷ name_t ∷ []); body = (c.Then (c.Set 2 (c.Binary two.Div kind.Signed (c.Temp 0) (c.Temp 1))) (c.Then (c.Return (Some (c.Temp 2))) c.End)) }) (s.Then 1 (s.Set ([]) ((record { lines = ((line.Comb (((pos 1), 0) ∷ ((pos 1), 4) ∷ [])) ∷ []) }) ∷ (record { lines = ((line.Comb (((pos 1), 1) ∷ ((pos 1), 4) ∷ [])) ∷ []) }) ∷ (record { lines = ((line.Comb (((pos 1), 2) ∷ ((pos 1), 4) ∷ [])) ∷ []) }) ∷ (record { lines = ((line.Comb (((pos 1), 3) ∷ ((pos 1), 4) ∷ [])) ∷ []) }) ∷ (record { lines = ((line.Comb (((pos 1), 0) ∷ ((pos 1), 4) ∷ [])) ∷ []) }) ∷ [])) s.NoBlock (s.Then 2 (s.Return ([]) ([]) ([])) s.NoBlock s.End)) ≡ (RefusedAt 1 2 3)
unfolding computing
edges_5 = refl

edges_6 : body_verdict (record { predicates = ([]); specs = ((record { is_void = false; name = name_f; params = (name_p ∷ []); vars = ((name_v, sort.Val) ∷ (name_w, sort.Val) ∷ []); pre = (record { opened = []; facts = ((Rel relation.Eq (Var 0 sort.Val) (Of unary.Vi (Number (pos 0)))) ∷ []); locals = ((name_p, (Var 0 sort.Val)) ∷ []); items = ((Data (Number (pos 64)) (Var 1 sort.Val) (Of2 binary.Cons (Of unary.Vi (Number (pos 0))) Nil)) ∷ []) }); post = (record { opened = []; facts = ([]); locals = []; items = ((Data (Number (pos 64)) (Var 1 sort.Val) (Of2 binary.Cons (Of unary.Vi (Number (pos 0))) Nil)) ∷ []) }) }) ∷ []) }) (record { is_void = false; name = name_f; params = (name_p ∷ []); vars = ((name_v, sort.Val) ∷ (name_w, sort.Val) ∷ []); pre = (record { opened = []; facts = ((Rel relation.Eq (Var 0 sort.Val) (Of unary.Vi (Number (pos 0)))) ∷ []); locals = ((name_p, (Var 0 sort.Val)) ∷ []); items = ((Data (Number (pos 64)) (Var 1 sort.Val) (Of2 binary.Cons (Of unary.Vi (Number (pos 0))) Nil)) ∷ []) }); post = (record { opened = []; facts = ([]); locals = []; items = ((Data (Number (pos 64)) (Var 1 sort.Val) (Of2 binary.Cons (Of unary.Vi (Number (pos 0))) Nil)) ∷ []) }) }) (record { temps = (name_p ∷ []); body = (c.Then (c.If (c.Pointers (c.Temp 0) (c.Const 0) true) (c.Then (c.Return (Some (c.Const 0))) c.End) c.End) (c.Then (c.Return (Some (c.Const 1))) c.End)) }) (s.Then 1 (s.If ([]) ([]) ([]) ([])) (s.WithBlock (s.Then 2 (s.Return ([]) ([]) ([])) s.NoBlock s.End) (s.WithBlock (s.Then 3 (s.Return ([]) ([]) ([])) s.NoBlock s.End) s.NoBlock)) s.End) ≡ Accepted
unfolding computing
edges_6 = refl

edges_7 : body_verdict (record { predicates = ([]); specs = ((record { is_void = false; name = name_f; params = (name_p ∷ []); vars = ((name_v, sort.Val) ∷ (name_w, sort.Val) ∷ []); pre = (record { opened = []; facts = ((Rel relation.Eq (Var 0 sort.Val) (Of unary.Vi (Number (pos 0)))) ∷ []); locals = ((name_p, (Var 0 sort.Val)) ∷ []); items = ((Data (Number (pos 64)) (Var 1 sort.Val) (Of2 binary.Cons (Of unary.Vi (Number (pos 0))) Nil)) ∷ []) }); post = (record { opened = []; facts = ([]); locals = []; items = ((Data (Number (pos 64)) (Var 1 sort.Val) (Of2 binary.Cons (Of unary.Vi (Number (pos 0))) Nil)) ∷ []) }) }) ∷ []) }) (record { is_void = false; name = name_f; params = (name_p ∷ []); vars = ((name_v, sort.Val) ∷ (name_w, sort.Val) ∷ []); pre = (record { opened = []; facts = ((Rel relation.Eq (Var 0 sort.Val) (Of unary.Vi (Number (pos 0)))) ∷ []); locals = ((name_p, (Var 0 sort.Val)) ∷ []); items = ((Data (Number (pos 64)) (Var 1 sort.Val) (Of2 binary.Cons (Of unary.Vi (Number (pos 0))) Nil)) ∷ []) }); post = (record { opened = []; facts = ([]); locals = []; items = ((Data (Number (pos 64)) (Var 1 sort.Val) (Of2 binary.Cons (Of unary.Vi (Number (pos 0))) Nil)) ∷ []) }) }) (record { temps = (name_p ∷ []); body = (c.Then (c.If (c.Pointers (c.Temp 0) (c.Const 0) true) (c.Then (c.Return (Some (c.Const 0))) c.End) c.End) (c.Then (c.Return (Some (c.Const 1))) c.End)) }) (s.Then 1 (s.If (0 ∷ []) ([]) ([]) ([])) (s.WithBlock (s.Then 2 (s.Return ([]) ([]) ([])) s.NoBlock s.End) (s.WithBlock (s.Then 3 (s.Return ([]) ([]) ([])) s.NoBlock s.End) s.NoBlock)) s.End) ≡ (RefusedAt 1 5 1)
unfolding computing
edges_7 = refl

edges_8 : body_verdict (record { predicates = ([]); specs = ((record { is_void = false; name = name_f; params = (name_p ∷ []); vars = ((name_v, sort.Val) ∷ (name_w, sort.Val) ∷ []); pre = (record { opened = []; facts = ((Rel relation.Eq (Of unary.Vi (Number (pos 0))) (Var 0 sort.Val)) ∷ []); locals = ((name_p, (Var 0 sort.Val)) ∷ []); items = ((Data (Number (pos 64)) (Var 1 sort.Val) (Of2 binary.Cons (Of unary.Vi (Number (pos 0))) Nil)) ∷ []) }); post = (record { opened = []; facts = ([]); locals = []; items = ((Data (Number (pos 64)) (Var 1 sort.Val) (Of2 binary.Cons (Of unary.Vi (Number (pos 0))) Nil)) ∷ []) }) }) ∷ []) }) (record { is_void = false; name = name_f; params = (name_p ∷ []); vars = ((name_v, sort.Val) ∷ (name_w, sort.Val) ∷ []); pre = (record { opened = []; facts = ((Rel relation.Eq (Of unary.Vi (Number (pos 0))) (Var 0 sort.Val)) ∷ []); locals = ((name_p, (Var 0 sort.Val)) ∷ []); items = ((Data (Number (pos 64)) (Var 1 sort.Val) (Of2 binary.Cons (Of unary.Vi (Number (pos 0))) Nil)) ∷ []) }); post = (record { opened = []; facts = ([]); locals = []; items = ((Data (Number (pos 64)) (Var 1 sort.Val) (Of2 binary.Cons (Of unary.Vi (Number (pos 0))) Nil)) ∷ []) }) }) (record { temps = (name_p ∷ []); body = (c.Then (c.If (c.Pointers (c.Temp 0) (c.Const 0) true) (c.Then (c.Return (Some (c.Const 0))) c.End) c.End) (c.Then (c.Return (Some (c.Const 1))) c.End)) }) (s.Then 1 (s.If ([]) ([]) ([]) ([])) (s.WithBlock (s.Then 2 (s.Return ([]) ([]) ([])) s.NoBlock s.End) (s.WithBlock (s.Then 3 (s.Return ([]) ([]) ([])) s.NoBlock s.End) s.NoBlock)) s.End) ≡ Accepted
unfolding computing
edges_8 = refl

edges_9 : body_verdict (record { predicates = ([]); specs = ((record { is_void = false; name = name_f; params = (name_p ∷ []); vars = ((name_v, sort.Val) ∷ (name_w, sort.Val) ∷ []); pre = (record { opened = []; facts = ((Rel relation.Eq (Of unary.Vi (Number (pos 0))) (Var 0 sort.Val)) ∷ []); locals = ((name_p, (Var 0 sort.Val)) ∷ []); items = ((Data (Number (pos 64)) (Var 1 sort.Val) (Of2 binary.Cons (Of unary.Vi (Number (pos 0))) Nil)) ∷ []) }); post = (record { opened = []; facts = ([]); locals = []; items = ((Data (Number (pos 64)) (Var 1 sort.Val) (Of2 binary.Cons (Of unary.Vi (Number (pos 0))) Nil)) ∷ []) }) }) ∷ []) }) (record { is_void = false; name = name_f; params = (name_p ∷ []); vars = ((name_v, sort.Val) ∷ (name_w, sort.Val) ∷ []); pre = (record { opened = []; facts = ((Rel relation.Eq (Of unary.Vi (Number (pos 0))) (Var 0 sort.Val)) ∷ []); locals = ((name_p, (Var 0 sort.Val)) ∷ []); items = ((Data (Number (pos 64)) (Var 1 sort.Val) (Of2 binary.Cons (Of unary.Vi (Number (pos 0))) Nil)) ∷ []) }); post = (record { opened = []; facts = ([]); locals = []; items = ((Data (Number (pos 64)) (Var 1 sort.Val) (Of2 binary.Cons (Of unary.Vi (Number (pos 0))) Nil)) ∷ []) }) }) (record { temps = (name_p ∷ []); body = (c.Then (c.If (c.Pointers (c.Temp 0) (c.Const 0) true) (c.Then (c.Return (Some (c.Const 0))) c.End) c.End) (c.Then (c.Return (Some (c.Const 1))) c.End)) }) (s.Then 1 (s.If (0 ∷ []) ([]) ([]) ([])) (s.WithBlock (s.Then 2 (s.Return ([]) ([]) ([])) s.NoBlock s.End) (s.WithBlock (s.Then 3 (s.Return ([]) ([]) ([])) s.NoBlock s.End) s.NoBlock)) s.End) ≡ (RefusedAt 1 5 1)
unfolding computing
edges_9 = refl

edges_10 : body_verdict (record { predicates = ([]); specs = ((record { is_void = false; name = name_f; params = (name_p ∷ []); vars = ((name_v, sort.Val) ∷ (name_w, sort.Val) ∷ []); pre = (record { opened = []; facts = ((Rel relation.Ne (Var 0 sort.Val) (Of unary.Vi (Number (pos 0)))) ∷ []); locals = ((name_p, (Var 0 sort.Val)) ∷ []); items = ((Data (Number (pos 64)) (Var 1 sort.Val) (Of2 binary.Cons (Of unary.Vi (Number (pos 0))) Nil)) ∷ []) }); post = (record { opened = []; facts = ([]); locals = []; items = ((Data (Number (pos 64)) (Var 1 sort.Val) (Of2 binary.Cons (Of unary.Vi (Number (pos 0))) Nil)) ∷ []) }) }) ∷ []) }) (record { is_void = false; name = name_f; params = (name_p ∷ []); vars = ((name_v, sort.Val) ∷ (name_w, sort.Val) ∷ []); pre = (record { opened = []; facts = ((Rel relation.Ne (Var 0 sort.Val) (Of unary.Vi (Number (pos 0)))) ∷ []); locals = ((name_p, (Var 0 sort.Val)) ∷ []); items = ((Data (Number (pos 64)) (Var 1 sort.Val) (Of2 binary.Cons (Of unary.Vi (Number (pos 0))) Nil)) ∷ []) }); post = (record { opened = []; facts = ([]); locals = []; items = ((Data (Number (pos 64)) (Var 1 sort.Val) (Of2 binary.Cons (Of unary.Vi (Number (pos 0))) Nil)) ∷ []) }) }) (record { temps = (name_p ∷ []); body = (c.Then (c.If (c.Pointers (c.Temp 0) (c.Const 0) true) (c.Then (c.Return (Some (c.Const 0))) c.End) c.End) (c.Then (c.Return (Some (c.Const 1))) c.End)) }) (s.Then 1 (s.If ([]) ([]) ([]) ([])) (s.WithBlock (s.Then 2 (s.Return ([]) ([]) ([])) s.NoBlock s.End) (s.WithBlock (s.Then 3 (s.Return ([]) ([]) ([])) s.NoBlock s.End) s.NoBlock)) s.End) ≡ (RefusedAt 1 5 2)
unfolding computing
edges_10 = refl

edges_11 : body_verdict (record { predicates = ([]); specs = ((record { is_void = false; name = name_f; params = (name_p ∷ []); vars = ((name_v, sort.Val) ∷ (name_w, sort.Val) ∷ []); pre = (record { opened = []; facts = ((Rel relation.Ne (Var 0 sort.Val) (Of unary.Vi (Number (pos 0)))) ∷ []); locals = ((name_p, (Var 0 sort.Val)) ∷ []); items = ((Data (Number (pos 64)) (Var 1 sort.Val) (Of2 binary.Cons (Of unary.Vi (Number (pos 0))) Nil)) ∷ []) }); post = (record { opened = []; facts = ([]); locals = []; items = ((Data (Number (pos 64)) (Var 1 sort.Val) (Of2 binary.Cons (Of unary.Vi (Number (pos 0))) Nil)) ∷ []) }) }) ∷ []) }) (record { is_void = false; name = name_f; params = (name_p ∷ []); vars = ((name_v, sort.Val) ∷ (name_w, sort.Val) ∷ []); pre = (record { opened = []; facts = ((Rel relation.Ne (Var 0 sort.Val) (Of unary.Vi (Number (pos 0)))) ∷ []); locals = ((name_p, (Var 0 sort.Val)) ∷ []); items = ((Data (Number (pos 64)) (Var 1 sort.Val) (Of2 binary.Cons (Of unary.Vi (Number (pos 0))) Nil)) ∷ []) }); post = (record { opened = []; facts = ([]); locals = []; items = ((Data (Number (pos 64)) (Var 1 sort.Val) (Of2 binary.Cons (Of unary.Vi (Number (pos 0))) Nil)) ∷ []) }) }) (record { temps = (name_p ∷ []); body = (c.Then (c.If (c.Pointers (c.Temp 0) (c.Const 0) true) (c.Then (c.Return (Some (c.Const 0))) c.End) c.End) (c.Then (c.Return (Some (c.Const 1))) c.End)) }) (s.Then 1 (s.If (0 ∷ []) ([]) ([]) ([])) (s.WithBlock (s.Then 2 (s.Return ([]) ([]) ([])) s.NoBlock s.End) (s.WithBlock (s.Then 3 (s.Return ([]) ([]) ([])) s.NoBlock s.End) s.NoBlock)) s.End) ≡ (RefusedAt 1 5 2)
unfolding computing
edges_11 = refl

edges_12 : body_verdict (record { predicates = ([]); specs = ((record { is_void = false; name = name_f; params = (name_p ∷ []); vars = ((name_v, sort.Val) ∷ (name_w, sort.Val) ∷ []); pre = (record { opened = []; facts = ([]); locals = ((name_p, (Var 0 sort.Val)) ∷ []); items = ((Data (Number (pos 64)) (Var 1 sort.Val) (Of2 binary.Cons (Of unary.Vi (Number (pos 0))) Nil)) ∷ []) }); post = (record { opened = []; facts = ([]); locals = []; items = ((Data (Number (pos 64)) (Var 1 sort.Val) (Of2 binary.Cons (Of unary.Vi (Number (pos 0))) Nil)) ∷ []) }) }) ∷ []) }) (record { is_void = false; name = name_f; params = (name_p ∷ []); vars = ((name_v, sort.Val) ∷ (name_w, sort.Val) ∷ []); pre = (record { opened = []; facts = ([]); locals = ((name_p, (Var 0 sort.Val)) ∷ []); items = ((Data (Number (pos 64)) (Var 1 sort.Val) (Of2 binary.Cons (Of unary.Vi (Number (pos 0))) Nil)) ∷ []) }); post = (record { opened = []; facts = ([]); locals = []; items = ((Data (Number (pos 64)) (Var 1 sort.Val) (Of2 binary.Cons (Of unary.Vi (Number (pos 0))) Nil)) ∷ []) }) }) (record { temps = (name_p ∷ []); body = (c.Then (c.If (c.Pointers (c.Temp 0) (c.Const 0) true) (c.Then (c.Return (Some (c.Const 0))) c.End) c.End) (c.Then (c.Return (Some (c.Const 1))) c.End)) }) (s.Then 1 (s.If ([]) ([]) ([]) ([])) (s.WithBlock (s.Then 2 (s.Return ([]) ([]) ([])) s.NoBlock s.End) (s.WithBlock (s.Then 3 (s.Return ([]) ([]) ([])) s.NoBlock s.End) s.NoBlock)) s.End) ≡ (RefusedAt 1 5 2)
unfolding computing
edges_12 = refl

edges_13 : body_verdict (record { predicates = ([]); specs = ((record { is_void = false; name = name_f; params = (name_p ∷ []); vars = ((name_v, sort.Val) ∷ (name_w, sort.Val) ∷ []); pre = (record { opened = []; facts = ([]); locals = ((name_p, (Var 0 sort.Val)) ∷ []); items = ((Data (Number (pos 64)) (Var 1 sort.Val) (Of2 binary.Cons (Of unary.Vi (Number (pos 0))) Nil)) ∷ []) }); post = (record { opened = []; facts = ([]); locals = []; items = ((Data (Number (pos 64)) (Var 1 sort.Val) (Of2 binary.Cons (Of unary.Vi (Number (pos 0))) Nil)) ∷ []) }) }) ∷ []) }) (record { is_void = false; name = name_f; params = (name_p ∷ []); vars = ((name_v, sort.Val) ∷ (name_w, sort.Val) ∷ []); pre = (record { opened = []; facts = ([]); locals = ((name_p, (Var 0 sort.Val)) ∷ []); items = ((Data (Number (pos 64)) (Var 1 sort.Val) (Of2 binary.Cons (Of unary.Vi (Number (pos 0))) Nil)) ∷ []) }); post = (record { opened = []; facts = ([]); locals = []; items = ((Data (Number (pos 64)) (Var 1 sort.Val) (Of2 binary.Cons (Of unary.Vi (Number (pos 0))) Nil)) ∷ []) }) }) (record { temps = (name_p ∷ []); body = (c.Then (c.If (c.Pointers (c.Temp 0) (c.Const 0) true) (c.Then (c.Return (Some (c.Const 0))) c.End) c.End) (c.Then (c.Return (Some (c.Const 1))) c.End)) }) (s.Then 1 (s.If (0 ∷ []) ([]) ([]) ([])) (s.WithBlock (s.Then 2 (s.Return ([]) ([]) ([])) s.NoBlock s.End) (s.WithBlock (s.Then 3 (s.Return ([]) ([]) ([])) s.NoBlock s.End) s.NoBlock)) s.End) ≡ (RefusedAt 1 5 2)
unfolding computing
edges_13 = refl

edges_14 : body_verdict (record { predicates = ((record { name = name_listrep; args = (sort.Val ∷ sort.List ∷ []); cases = ((record { opened = []; facts = ((Rel relation.Eq (Var 0 sort.Val) (Of unary.Vi (Number (pos 0)))) ∷ (Rel relation.Eq (Var 1 sort.List) Nil) ∷ []); locals = []; items = ([]) }) ∷ (record { opened = (sort.Val ∷ sort.List ∷ sort.Val ∷ []); facts = ((Rel relation.Eq (Var 1 sort.List) (Of2 binary.Cons (Var 2 sort.Val) (Var 3 sort.List))) ∷ []); locals = []; items = ((Data (Number (pos 64)) (Var 0 sort.Val) (Of2 binary.Cons (Var 2 sort.Val) (Of2 binary.Cons (Var 4 sort.Val) Nil))) ∷ (Pred (record { name = name_listrep; args = ((Var 4 sort.Val) ∷ (Var 3 sort.List) ∷ []) })) ∷ []) }) ∷ []) }) ∷ []); specs = ((record { is_void = false; name = name_reverse; params = (name_p ∷ []); vars = ((name_l, sort.List) ∷ (name_v, sort.Val) ∷ []); pre = (record { opened = []; facts = ([]); locals = ((name_p, (Var 1 sort.Val)) ∷ []); items = ((Pred (record { name = name_listrep; args = ((Var 1 sort.Val) ∷ (Var 0 sort.List) ∷ []) })) ∷ []) }); post = (record { opened = []; facts = ([]); locals = []; items = ((Pred (record { name = name_listrep; args = ((Var 2 sort.Val) ∷ (Of unary.Rev (Var 0 sort.List)) ∷ []) })) ∷ []) }) }) ∷ (record { is_void = false; name = name_main; params = ([]); vars = []; pre = (record { opened = []; facts = ([]); locals = []; items = ([]) }); post = (record { opened = []; facts = ((Rel relation.Eq (Var 0 sort.Val) (Of unary.Vi (Number (pos 0)))) ∷ []); locals = []; items = ([]) }) }) ∷ []) }) (record { is_void = false; name = name_reverse; params = (name_p ∷ []); vars = ((name_l, sort.List) ∷ (name_v, sort.Val) ∷ []); pre = (record { opened = []; facts = ([]); locals = ((name_p, (Var 1 sort.Val)) ∷ []); items = ((Pred (record { name = name_listrep; args = ((Var 1 sort.Val) ∷ (Var 0 sort.List) ∷ []) })) ∷ []) }); post = (record { opened = []; facts = ([]); locals = []; items = ((Pred (record { name = name_listrep; args = ((Var 2 sort.Val) ∷ (Of unary.Rev (Var 0 sort.List)) ∷ []) })) ∷ []) }) }) (record { temps = (name_p ∷ name_w ∷ name_t ∷ []); body = (c.Then (c.Set 1 (c.Const 0)) (c.Then (c.Loop (c.Then (c.If (c.Pointers (c.Temp 0) (c.Const 0) false) (c.Then (c.Load 2 (root.Temp 0) (c.Offset 1 c.Here)) (c.Then (c.Store (root.Temp 0) (c.Offset 1 c.Here) (c.Temp 1)) (c.Then (c.Set 1 (c.Temp 0)) (c.Then (c.Set 0 (c.Temp 2)) c.End)))) (c.Then c.Break c.End)) c.End)) (c.Then (c.Return (Some (c.Temp 1))) c.End))) }) (s.Then 1 (s.Set ([]) ([])) s.NoBlock (s.Then 2 (s.While (record { opened = (sort.List ∷ sort.List ∷ sort.Val ∷ sort.Val ∷ []); facts = ((Rel relation.Eq (Named name_l) (Of2 binary.App (Of unary.Rev (Var 0 sort.List)) (Var 1 sort.List))) ∷ []); locals = ((name_w, (Var 2 sort.Val)) ∷ (name_p, (Var 3 sort.Val)) ∷ []); items = ((Pred (record { name = name_listrep; args = ((Var 2 sort.Val) ∷ (Var 0 sort.List) ∷ []) })) ∷ (Pred (record { name = name_listrep; args = ((Var 3 sort.Val) ∷ (Var 1 sort.List) ∷ []) })) ∷ []) }) (record { opened = (sort.List ∷ sort.Val ∷ []); facts = ((Rel relation.Eq (Named name_l) (Of unary.Rev (Var 0 sort.List))) ∷ []); locals = ((name_w, (Var 1 sort.Val)) ∷ []); items = ((Pred (record { name = name_listrep; args = ((Var 1 sort.Val) ∷ (Var 0 sort.List) ∷ []) })) ∷ []) }) (name_a ∷ name_x ∷ []) (name_z ∷ []) (name_a ∷ name_b ∷ name_x ∷ name_y ∷ [])) (s.WithBlock (s.Then 3 (s.Fold name_listrep 0 ((Of unary.Vi (Number (pos 0))) ∷ Nil ∷ []) ([]) ([])) s.NoBlock (s.Then 4 (s.Meet (Nil ∷ (Named name_l) ∷ (Of unary.Vi (Number (pos 0))) ∷ (Named name_v) ∷ []) ([])) s.NoBlock s.End)) (s.WithBlock (s.Then 5 (s.Unfold 1 (([]) ∷ (name_h ∷ name_s ∷ name_q ∷ []) ∷ [])) (s.WithBlock (s.Then 6 (s.Subst name_y) s.NoBlock (s.Then 7 (s.Subst name_b) s.NoBlock (s.Then 8 (s.If ([]) ([]) ([]) ([])) (s.WithBlock (s.Then 9 (s.Absurd ([])) s.NoBlock s.End) (s.WithBlock (s.Then 10 (s.Law name_app_nil ((Of unary.Rev (Named name_a)) ∷ []) ([])) s.NoBlock (s.Then 11 (s.Rewrite false 2 (occurrence.Prop 0)) s.NoBlock (s.Then 12 (s.Break ((Named name_a) ∷ (Named name_x) ∷ []) ([])) s.NoBlock s.End))) s.NoBlock)) s.End))) (s.WithBlock (s.Then 13 (s.Subst name_b) s.NoBlock (s.Then 14 (s.If (1 ∷ []) ([]) ([]) ([])) (s.WithBlock (s.Then 15 (s.Load 1 ([]) ([])) s.NoBlock (s.Then 16 (s.Store 1 ([]) ([])) s.NoBlock (s.Then 17 (s.Set ([]) ([])) s.NoBlock (s.Then 18 (s.Set ([]) ([])) s.NoBlock (s.Then 19 (s.Fold name_listrep 1 ((Named name_y) ∷ (Of2 binary.Cons (Named name_h) (Named name_a)) ∷ []) ((Named name_h) ∷ (Named name_a) ∷ (Named name_x) ∷ []) ([])) s.NoBlock (s.Then 20 (s.Law name_rev_cons ((Named name_h) ∷ (Named name_a) ∷ []) ([])) s.NoBlock (s.Then 21 (s.Law name_app_assoc ((Of unary.Rev (Named name_a)) ∷ (Of2 binary.Cons (Named name_h) Nil) ∷ (Named name_s) ∷ []) ([])) s.NoBlock (s.Then 22 (s.Rewrite true 2 (occurrence.Prop 3)) s.NoBlock (s.Then 23 (s.Rewrite true 3 (occurrence.Prop 0)) s.NoBlock (s.Then 24 (s.Fall ((Of2 binary.Cons (Named name_h) (Named name_a)) ∷ (Named name_s) ∷ (Named name_y) ∷ (Named name_q) ∷ []) ([])) s.NoBlock s.End)))))))))) (s.WithBlock (s.Then 25 (s.Bounds 1 None ([])) s.NoBlock (s.Then 26 (s.Subst name_y) s.NoBlock (s.Then 27 (s.Absurd ([])) s.NoBlock s.End))) s.NoBlock)) s.End)) s.NoBlock)) s.End) s.NoBlock)) (s.Then 28 (s.Law name_rev_rev ((Named name_a) ∷ []) ([])) s.NoBlock (s.Then 29 (s.Rewrite true 0 (occurrence.Prop 1)) s.NoBlock (s.Then 30 (s.Rewrite true 1 (occurrence.Item 0)) s.NoBlock (s.Then 31 (s.Return ([]) ([]) ([])) s.NoBlock s.End)))))) ≡ (RefusedAt 2 6 6)
unfolding computing
edges_14 = refl

edges_15 : body_verdict (record { predicates = ((record { name = name_listrep; args = (sort.Val ∷ sort.List ∷ []); cases = ((record { opened = []; facts = ((Rel relation.Eq (Var 0 sort.Val) (Of unary.Vi (Number (pos 0)))) ∷ (Rel relation.Eq (Var 1 sort.List) Nil) ∷ []); locals = []; items = ([]) }) ∷ (record { opened = (sort.Val ∷ sort.List ∷ sort.Val ∷ []); facts = ((Rel relation.Eq (Var 1 sort.List) (Of2 binary.Cons (Var 2 sort.Val) (Var 3 sort.List))) ∷ []); locals = []; items = ((Data (Number (pos 64)) (Var 0 sort.Val) (Of2 binary.Cons (Var 2 sort.Val) (Of2 binary.Cons (Var 4 sort.Val) Nil))) ∷ (Pred (record { name = name_listrep; args = ((Var 4 sort.Val) ∷ (Var 3 sort.List) ∷ []) })) ∷ []) }) ∷ []) }) ∷ []); specs = ((record { is_void = false; name = name_reverse; params = (name_p ∷ []); vars = ((name_l, sort.List) ∷ (name_v, sort.Val) ∷ []); pre = (record { opened = []; facts = ([]); locals = ((name_p, (Var 1 sort.Val)) ∷ []); items = ((Pred (record { name = name_listrep; args = ((Var 1 sort.Val) ∷ (Var 0 sort.List) ∷ []) })) ∷ []) }); post = (record { opened = []; facts = ([]); locals = []; items = ((Pred (record { name = name_listrep; args = ((Var 2 sort.Val) ∷ (Of unary.Rev (Var 0 sort.List)) ∷ []) })) ∷ []) }) }) ∷ (record { is_void = false; name = name_main; params = ([]); vars = []; pre = (record { opened = []; facts = ([]); locals = []; items = ([]) }); post = (record { opened = []; facts = ((Rel relation.Eq (Var 0 sort.Val) (Of unary.Vi (Number (pos 0)))) ∷ []); locals = []; items = ([]) }) }) ∷ []) }) (record { is_void = false; name = name_reverse; params = (name_p ∷ []); vars = ((name_l, sort.List) ∷ (name_v, sort.Val) ∷ []); pre = (record { opened = []; facts = ([]); locals = ((name_p, (Var 1 sort.Val)) ∷ []); items = ((Pred (record { name = name_listrep; args = ((Var 1 sort.Val) ∷ (Var 0 sort.List) ∷ []) })) ∷ []) }); post = (record { opened = []; facts = ([]); locals = []; items = ((Pred (record { name = name_listrep; args = ((Var 2 sort.Val) ∷ (Of unary.Rev (Var 0 sort.List)) ∷ []) })) ∷ []) }) }) (record { temps = (name_p ∷ name_w ∷ name_t ∷ []); body = (c.Then (c.Set 1 (c.Const 0)) (c.Then (c.Loop (c.Then (c.If (c.Pointers (c.Temp 0) (c.Const 0) false) (c.Then (c.Load 2 (root.Temp 0) (c.Offset 1 c.Here)) (c.Then (c.Store (root.Temp 0) (c.Offset 1 c.Here) (c.Temp 1)) (c.Then (c.Set 1 (c.Temp 0)) (c.Then (c.Set 0 (c.Temp 2)) c.End)))) (c.Then c.Break c.End)) c.End)) (c.Then (c.Return (Some (c.Temp 1))) c.End))) }) (s.Then 1 (s.Set ([]) ([])) s.NoBlock (s.Then 2 (s.While (record { opened = (sort.List ∷ sort.List ∷ sort.Val ∷ sort.Val ∷ []); facts = ((Rel relation.Eq (Named name_l) (Of2 binary.App (Of unary.Rev (Var 0 sort.List)) (Var 1 sort.List))) ∷ []); locals = ((name_w, (Var 2 sort.Val)) ∷ (name_p, (Var 3 sort.Val)) ∷ []); items = ((Pred (record { name = name_listrep; args = ((Var 2 sort.Val) ∷ (Var 0 sort.List) ∷ []) })) ∷ (Pred (record { name = name_listrep; args = ((Var 3 sort.Val) ∷ (Var 1 sort.List) ∷ []) })) ∷ []) }) (record { opened = (sort.List ∷ sort.Val ∷ []); facts = ((Rel relation.Eq (Named name_l) (Of unary.Rev (Var 0 sort.List))) ∷ []); locals = ((name_w, (Var 1 sort.Val)) ∷ []); items = ((Pred (record { name = name_listrep; args = ((Var 1 sort.Val) ∷ (Var 0 sort.List) ∷ []) })) ∷ []) }) (name_a ∷ name_v ∷ []) ([]) (name_a ∷ name_b ∷ name_x ∷ name_y ∷ [])) (s.WithBlock (s.Then 3 (s.Fold name_listrep 0 ((Of unary.Vi (Number (pos 0))) ∷ Nil ∷ []) ([]) ([])) s.NoBlock (s.Then 4 (s.Meet (Nil ∷ (Named name_l) ∷ (Of unary.Vi (Number (pos 0))) ∷ (Named name_v) ∷ []) ([])) s.NoBlock s.End)) (s.WithBlock (s.Then 5 (s.Unfold 1 (([]) ∷ (name_h ∷ name_s ∷ name_q ∷ []) ∷ [])) (s.WithBlock (s.Then 6 (s.Subst name_y) s.NoBlock (s.Then 7 (s.Subst name_b) s.NoBlock (s.Then 8 (s.If ([]) ([]) ([]) ([])) (s.WithBlock (s.Then 9 (s.Absurd ([])) s.NoBlock s.End) (s.WithBlock (s.Then 10 (s.Law name_app_nil ((Of unary.Rev (Named name_a)) ∷ []) ([])) s.NoBlock (s.Then 11 (s.Rewrite false 2 (occurrence.Prop 0)) s.NoBlock (s.Then 12 (s.Break ((Named name_a) ∷ (Named name_x) ∷ []) ([])) s.NoBlock s.End))) s.NoBlock)) s.End))) (s.WithBlock (s.Then 13 (s.Subst name_b) s.NoBlock (s.Then 14 (s.If (1 ∷ []) ([]) ([]) ([])) (s.WithBlock (s.Then 15 (s.Load 1 ([]) ([])) s.NoBlock (s.Then 16 (s.Store 1 ([]) ([])) s.NoBlock (s.Then 17 (s.Set ([]) ([])) s.NoBlock (s.Then 18 (s.Set ([]) ([])) s.NoBlock (s.Then 19 (s.Fold name_listrep 1 ((Named name_y) ∷ (Of2 binary.Cons (Named name_h) (Named name_a)) ∷ []) ((Named name_h) ∷ (Named name_a) ∷ (Named name_x) ∷ []) ([])) s.NoBlock (s.Then 20 (s.Law name_rev_cons ((Named name_h) ∷ (Named name_a) ∷ []) ([])) s.NoBlock (s.Then 21 (s.Law name_app_assoc ((Of unary.Rev (Named name_a)) ∷ (Of2 binary.Cons (Named name_h) Nil) ∷ (Named name_s) ∷ []) ([])) s.NoBlock (s.Then 22 (s.Rewrite true 2 (occurrence.Prop 3)) s.NoBlock (s.Then 23 (s.Rewrite true 3 (occurrence.Prop 0)) s.NoBlock (s.Then 24 (s.Fall ((Of2 binary.Cons (Named name_h) (Named name_a)) ∷ (Named name_s) ∷ (Named name_y) ∷ (Named name_q) ∷ []) ([])) s.NoBlock s.End)))))))))) (s.WithBlock (s.Then 25 (s.Bounds 1 None ([])) s.NoBlock (s.Then 26 (s.Subst name_y) s.NoBlock (s.Then 27 (s.Absurd ([])) s.NoBlock s.End))) s.NoBlock)) s.End)) s.NoBlock)) s.End) s.NoBlock)) (s.Then 28 (s.Law name_rev_rev ((Named name_a) ∷ []) ([])) s.NoBlock (s.Then 29 (s.Rewrite true 0 (occurrence.Prop 1)) s.NoBlock (s.Then 30 (s.Rewrite true 1 (occurrence.Item 0)) s.NoBlock (s.Then 31 (s.Return ([]) ([]) ([])) s.NoBlock s.End)))))) ≡ (RefusedAt 2 6 6)
unfolding computing
edges_15 = refl

edges_16 : body_verdict (record { predicates = ((record { name = name_listrep; args = (sort.Val ∷ sort.List ∷ []); cases = ((record { opened = []; facts = ((Rel relation.Eq (Var 0 sort.Val) (Of unary.Vi (Number (pos 0)))) ∷ (Rel relation.Eq (Var 1 sort.List) Nil) ∷ []); locals = []; items = ([]) }) ∷ (record { opened = (sort.Val ∷ sort.List ∷ sort.Val ∷ []); facts = ((Rel relation.Eq (Var 1 sort.List) (Of2 binary.Cons (Var 2 sort.Val) (Var 3 sort.List))) ∷ []); locals = []; items = ((Data (Number (pos 64)) (Var 0 sort.Val) (Of2 binary.Cons (Var 2 sort.Val) (Of2 binary.Cons (Var 4 sort.Val) Nil))) ∷ (Pred (record { name = name_listrep; args = ((Var 4 sort.Val) ∷ (Var 3 sort.List) ∷ []) })) ∷ []) }) ∷ []) }) ∷ []); specs = ((record { is_void = false; name = name_reverse; params = (name_p ∷ []); vars = ((name_l, sort.List) ∷ (name_v, sort.Val) ∷ []); pre = (record { opened = []; facts = ([]); locals = ((name_p, (Var 1 sort.Val)) ∷ []); items = ((Pred (record { name = name_listrep; args = ((Var 1 sort.Val) ∷ (Var 0 sort.List) ∷ []) })) ∷ []) }); post = (record { opened = []; facts = ([]); locals = []; items = ((Pred (record { name = name_listrep; args = ((Var 2 sort.Val) ∷ (Of unary.Rev (Var 0 sort.List)) ∷ []) })) ∷ []) }) }) ∷ (record { is_void = false; name = name_main; params = ([]); vars = []; pre = (record { opened = []; facts = ([]); locals = []; items = ([]) }); post = (record { opened = []; facts = ((Rel relation.Eq (Var 0 sort.Val) (Of unary.Vi (Number (pos 0)))) ∷ []); locals = []; items = ([]) }) }) ∷ []) }) (record { is_void = false; name = name_reverse; params = (name_p ∷ []); vars = ((name_l, sort.List) ∷ (name_v, sort.Val) ∷ []); pre = (record { opened = []; facts = ([]); locals = ((name_p, (Var 1 sort.Val)) ∷ []); items = ((Pred (record { name = name_listrep; args = ((Var 1 sort.Val) ∷ (Var 0 sort.List) ∷ []) })) ∷ []) }); post = (record { opened = []; facts = ([]); locals = []; items = ((Pred (record { name = name_listrep; args = ((Var 2 sort.Val) ∷ (Of unary.Rev (Var 0 sort.List)) ∷ []) })) ∷ []) }) }) (record { temps = (name_p ∷ name_w ∷ name_t ∷ []); body = (c.Then (c.Set 1 (c.Const 0)) (c.Then (c.Loop (c.Then (c.If (c.Pointers (c.Temp 0) (c.Const 0) false) (c.Then (c.Load 2 (root.Temp 0) (c.Offset 1 c.Here)) (c.Then (c.Store (root.Temp 0) (c.Offset 1 c.Here) (c.Temp 1)) (c.Then (c.Set 1 (c.Temp 0)) (c.Then (c.Set 0 (c.Temp 2)) c.End)))) (c.Then c.Break c.End)) c.End)) (c.Then (c.Return (Some (c.Temp 1))) c.End))) }) (s.Then 1 (s.Set ([]) ([])) s.NoBlock (s.Then 2 (s.While (record { opened = (sort.List ∷ sort.List ∷ sort.Val ∷ sort.Val ∷ []); facts = ((Rel relation.Eq (Named name_l) (Of2 binary.App (Of unary.Rev (Var 0 sort.List)) (Var 1 sort.List))) ∷ []); locals = ((name_w, (Var 2 sort.Val)) ∷ (name_p, (Var 3 sort.Val)) ∷ []); items = ((Pred (record { name = name_listrep; args = ((Var 2 sort.Val) ∷ (Var 0 sort.List) ∷ []) })) ∷ (Pred (record { name = name_listrep; args = ((Var 3 sort.Val) ∷ (Var 1 sort.List) ∷ []) })) ∷ []) }) (record { opened = (sort.List ∷ sort.Val ∷ []); facts = ((Rel relation.Eq (Named name_l) (Of unary.Rev (Var 0 sort.List))) ∷ []); locals = ((name_w, (Var 1 sort.Val)) ∷ []); items = ((Pred (record { name = name_listrep; args = ((Var 1 sort.Val) ∷ (Var 0 sort.List) ∷ []) })) ∷ []) }) (name_a ∷ []) ([]) (name_a ∷ name_b ∷ name_x ∷ name_y ∷ [])) (s.WithBlock (s.Then 3 (s.Fold name_listrep 0 ((Of unary.Vi (Number (pos 0))) ∷ Nil ∷ []) ([]) ([])) s.NoBlock (s.Then 4 (s.Meet (Nil ∷ (Named name_l) ∷ (Of unary.Vi (Number (pos 0))) ∷ (Named name_v) ∷ []) ([])) s.NoBlock s.End)) (s.WithBlock (s.Then 5 (s.Unfold 1 (([]) ∷ (name_h ∷ name_s ∷ name_q ∷ []) ∷ [])) (s.WithBlock (s.Then 6 (s.Subst name_y) s.NoBlock (s.Then 7 (s.Subst name_b) s.NoBlock (s.Then 8 (s.If ([]) ([]) ([]) ([])) (s.WithBlock (s.Then 9 (s.Absurd ([])) s.NoBlock s.End) (s.WithBlock (s.Then 10 (s.Law name_app_nil ((Of unary.Rev (Named name_a)) ∷ []) ([])) s.NoBlock (s.Then 11 (s.Rewrite false 2 (occurrence.Prop 0)) s.NoBlock (s.Then 12 (s.Break ((Named name_a) ∷ (Named name_x) ∷ []) ([])) s.NoBlock s.End))) s.NoBlock)) s.End))) (s.WithBlock (s.Then 13 (s.Subst name_b) s.NoBlock (s.Then 14 (s.If (1 ∷ []) ([]) ([]) ([])) (s.WithBlock (s.Then 15 (s.Load 1 ([]) ([])) s.NoBlock (s.Then 16 (s.Store 1 ([]) ([])) s.NoBlock (s.Then 17 (s.Set ([]) ([])) s.NoBlock (s.Then 18 (s.Set ([]) ([])) s.NoBlock (s.Then 19 (s.Fold name_listrep 1 ((Named name_y) ∷ (Of2 binary.Cons (Named name_h) (Named name_a)) ∷ []) ((Named name_h) ∷ (Named name_a) ∷ (Named name_x) ∷ []) ([])) s.NoBlock (s.Then 20 (s.Law name_rev_cons ((Named name_h) ∷ (Named name_a) ∷ []) ([])) s.NoBlock (s.Then 21 (s.Law name_app_assoc ((Of unary.Rev (Named name_a)) ∷ (Of2 binary.Cons (Named name_h) Nil) ∷ (Named name_s) ∷ []) ([])) s.NoBlock (s.Then 22 (s.Rewrite true 2 (occurrence.Prop 3)) s.NoBlock (s.Then 23 (s.Rewrite true 3 (occurrence.Prop 0)) s.NoBlock (s.Then 24 (s.Fall ((Of2 binary.Cons (Named name_h) (Named name_a)) ∷ (Named name_s) ∷ (Named name_y) ∷ (Named name_q) ∷ []) ([])) s.NoBlock s.End)))))))))) (s.WithBlock (s.Then 25 (s.Bounds 1 None ([])) s.NoBlock (s.Then 26 (s.Subst name_y) s.NoBlock (s.Then 27 (s.Absurd ([])) s.NoBlock s.End))) s.NoBlock)) s.End)) s.NoBlock)) s.End) s.NoBlock)) (s.Then 28 (s.Law name_rev_rev ((Named name_a) ∷ []) ([])) s.NoBlock (s.Then 29 (s.Rewrite true 0 (occurrence.Prop 1)) s.NoBlock (s.Then 30 (s.Rewrite true 1 (occurrence.Item 0)) s.NoBlock (s.Then 31 (s.Return ([]) ([]) ([])) s.NoBlock s.End)))))) ≡ (RefusedAt 2 6 6)
unfolding computing
edges_16 = refl

edges_17 : body_verdict (record { predicates = ((record { name = name_listrep; args = (sort.Val ∷ sort.List ∷ []); cases = ((record { opened = []; facts = ((Rel relation.Eq (Var 0 sort.Val) (Of unary.Vi (Number (pos 0)))) ∷ (Rel relation.Eq (Var 1 sort.List) Nil) ∷ []); locals = []; items = ([]) }) ∷ (record { opened = (sort.Val ∷ sort.List ∷ sort.Val ∷ []); facts = ((Rel relation.Eq (Var 1 sort.List) (Of2 binary.Cons (Var 2 sort.Val) (Var 3 sort.List))) ∷ []); locals = []; items = ((Data (Number (pos 64)) (Var 0 sort.Val) (Of2 binary.Cons (Var 2 sort.Val) (Of2 binary.Cons (Var 4 sort.Val) Nil))) ∷ (Pred (record { name = name_listrep; args = ((Var 4 sort.Val) ∷ (Var 3 sort.List) ∷ []) })) ∷ []) }) ∷ []) }) ∷ []); specs = ((record { is_void = false; name = name_reverse; params = (name_p ∷ []); vars = ((name_l, sort.List) ∷ (name_v, sort.Val) ∷ []); pre = (record { opened = []; facts = ([]); locals = ((name_p, (Var 1 sort.Val)) ∷ []); items = ((Pred (record { name = name_listrep; args = ((Var 1 sort.Val) ∷ (Var 0 sort.List) ∷ []) })) ∷ []) }); post = (record { opened = []; facts = ([]); locals = []; items = ((Pred (record { name = name_listrep; args = ((Var 2 sort.Val) ∷ (Of unary.Rev (Var 0 sort.List)) ∷ []) })) ∷ []) }) }) ∷ (record { is_void = false; name = name_main; params = ([]); vars = []; pre = (record { opened = []; facts = ([]); locals = []; items = ([]) }); post = (record { opened = []; facts = ((Rel relation.Eq (Var 0 sort.Val) (Of unary.Vi (Number (pos 0)))) ∷ []); locals = []; items = ([]) }) }) ∷ []) }) (record { is_void = false; name = name_reverse; params = (name_p ∷ []); vars = ((name_l, sort.List) ∷ (name_v, sort.Val) ∷ []); pre = (record { opened = []; facts = ([]); locals = ((name_p, (Var 1 sort.Val)) ∷ []); items = ((Pred (record { name = name_listrep; args = ((Var 1 sort.Val) ∷ (Var 0 sort.List) ∷ []) })) ∷ []) }); post = (record { opened = []; facts = ([]); locals = []; items = ((Pred (record { name = name_listrep; args = ((Var 2 sort.Val) ∷ (Of unary.Rev (Var 0 sort.List)) ∷ []) })) ∷ []) }) }) (record { temps = (name_p ∷ name_w ∷ name_t ∷ []); body = (c.Then (c.Set 1 (c.Const 0)) (c.Then (c.Loop (c.Then (c.If (c.Pointers (c.Temp 0) (c.Const 0) false) (c.Then (c.Load 2 (root.Temp 0) (c.Offset 1 c.Here)) (c.Then (c.Store (root.Temp 0) (c.Offset 1 c.Here) (c.Temp 1)) (c.Then (c.Set 1 (c.Temp 0)) (c.Then (c.Set 0 (c.Temp 2)) c.End)))) (c.Then c.Break c.End)) c.End)) (c.Then (c.Return (Some (c.Temp 1))) c.End))) }) (s.Then 1 (s.Set ([]) ([])) s.NoBlock (s.Then 2 (s.While (record { opened = (sort.List ∷ sort.List ∷ sort.Val ∷ sort.Val ∷ []); facts = ((Rel relation.Eq (Named name_l) (Of2 binary.App (Of unary.Rev (Var 0 sort.List)) (Var 1 sort.List))) ∷ []); locals = ((name_w, (Var 2 sort.Val)) ∷ (name_p, (Var 3 sort.Val)) ∷ []); items = ((Pred (record { name = name_listrep; args = ((Var 2 sort.Val) ∷ (Var 0 sort.List) ∷ []) })) ∷ (Pred (record { name = name_listrep; args = ((Var 3 sort.Val) ∷ (Var 1 sort.List) ∷ []) })) ∷ []) }) (record { opened = (sort.List ∷ sort.Val ∷ []); facts = ((Rel relation.Eq (Named name_l) (Of unary.Rev (Var 0 sort.List))) ∷ []); locals = ((name_w, (Var 1 sort.Val)) ∷ []); items = ((Pred (record { name = name_listrep; args = ((Var 1 sort.Val) ∷ (Var 0 sort.List) ∷ []) })) ∷ []) }) (name_a ∷ name_x ∷ []) ([]) (name_a ∷ name_b ∷ name_x ∷ name_x ∷ [])) (s.WithBlock (s.Then 3 (s.Fold name_listrep 0 ((Of unary.Vi (Number (pos 0))) ∷ Nil ∷ []) ([]) ([])) s.NoBlock (s.Then 4 (s.Meet (Nil ∷ (Named name_l) ∷ (Of unary.Vi (Number (pos 0))) ∷ (Named name_v) ∷ []) ([])) s.NoBlock s.End)) (s.WithBlock (s.Then 5 (s.Unfold 1 (([]) ∷ (name_h ∷ name_s ∷ name_q ∷ []) ∷ [])) (s.WithBlock (s.Then 6 (s.Subst name_y) s.NoBlock (s.Then 7 (s.Subst name_b) s.NoBlock (s.Then 8 (s.If ([]) ([]) ([]) ([])) (s.WithBlock (s.Then 9 (s.Absurd ([])) s.NoBlock s.End) (s.WithBlock (s.Then 10 (s.Law name_app_nil ((Of unary.Rev (Named name_a)) ∷ []) ([])) s.NoBlock (s.Then 11 (s.Rewrite false 2 (occurrence.Prop 0)) s.NoBlock (s.Then 12 (s.Break ((Named name_a) ∷ (Named name_x) ∷ []) ([])) s.NoBlock s.End))) s.NoBlock)) s.End))) (s.WithBlock (s.Then 13 (s.Subst name_b) s.NoBlock (s.Then 14 (s.If (1 ∷ []) ([]) ([]) ([])) (s.WithBlock (s.Then 15 (s.Load 1 ([]) ([])) s.NoBlock (s.Then 16 (s.Store 1 ([]) ([])) s.NoBlock (s.Then 17 (s.Set ([]) ([])) s.NoBlock (s.Then 18 (s.Set ([]) ([])) s.NoBlock (s.Then 19 (s.Fold name_listrep 1 ((Named name_y) ∷ (Of2 binary.Cons (Named name_h) (Named name_a)) ∷ []) ((Named name_h) ∷ (Named name_a) ∷ (Named name_x) ∷ []) ([])) s.NoBlock (s.Then 20 (s.Law name_rev_cons ((Named name_h) ∷ (Named name_a) ∷ []) ([])) s.NoBlock (s.Then 21 (s.Law name_app_assoc ((Of unary.Rev (Named name_a)) ∷ (Of2 binary.Cons (Named name_h) Nil) ∷ (Named name_s) ∷ []) ([])) s.NoBlock (s.Then 22 (s.Rewrite true 2 (occurrence.Prop 3)) s.NoBlock (s.Then 23 (s.Rewrite true 3 (occurrence.Prop 0)) s.NoBlock (s.Then 24 (s.Fall ((Of2 binary.Cons (Named name_h) (Named name_a)) ∷ (Named name_s) ∷ (Named name_y) ∷ (Named name_q) ∷ []) ([])) s.NoBlock s.End)))))))))) (s.WithBlock (s.Then 25 (s.Bounds 1 None ([])) s.NoBlock (s.Then 26 (s.Subst name_y) s.NoBlock (s.Then 27 (s.Absurd ([])) s.NoBlock s.End))) s.NoBlock)) s.End)) s.NoBlock)) s.End) s.NoBlock)) (s.Then 28 (s.Law name_rev_rev ((Named name_a) ∷ []) ([])) s.NoBlock (s.Then 29 (s.Rewrite true 0 (occurrence.Prop 1)) s.NoBlock (s.Then 30 (s.Rewrite true 1 (occurrence.Item 0)) s.NoBlock (s.Then 31 (s.Return ([]) ([]) ([])) s.NoBlock s.End)))))) ≡ (RefusedAt 2 6 6)
unfolding computing
edges_17 = refl

edges_18 : body_verdict (record { predicates = ((record { name = name_listrep; args = (sort.Val ∷ sort.List ∷ []); cases = ((record { opened = []; facts = ((Rel relation.Eq (Var 0 sort.Val) (Of unary.Vi (Number (pos 0)))) ∷ (Rel relation.Eq (Var 1 sort.List) Nil) ∷ []); locals = []; items = ([]) }) ∷ (record { opened = (sort.Val ∷ sort.List ∷ sort.Val ∷ []); facts = ((Rel relation.Eq (Var 1 sort.List) (Of2 binary.Cons (Var 2 sort.Val) (Var 3 sort.List))) ∷ []); locals = []; items = ((Data (Number (pos 64)) (Var 0 sort.Val) (Of2 binary.Cons (Var 2 sort.Val) (Of2 binary.Cons (Var 4 sort.Val) Nil))) ∷ (Pred (record { name = name_listrep; args = ((Var 4 sort.Val) ∷ (Var 3 sort.List) ∷ []) })) ∷ []) }) ∷ []) }) ∷ []); specs = ((record { is_void = false; name = name_reverse; params = (name_p ∷ []); vars = ((name_l, sort.List) ∷ (name_v, sort.Val) ∷ []); pre = (record { opened = []; facts = ([]); locals = ((name_p, (Var 1 sort.Val)) ∷ []); items = ((Pred (record { name = name_listrep; args = ((Var 1 sort.Val) ∷ (Var 0 sort.List) ∷ []) })) ∷ []) }); post = (record { opened = []; facts = ([]); locals = []; items = ((Pred (record { name = name_listrep; args = ((Var 2 sort.Val) ∷ (Of unary.Rev (Var 0 sort.List)) ∷ []) })) ∷ []) }) }) ∷ (record { is_void = false; name = name_main; params = ([]); vars = []; pre = (record { opened = []; facts = ([]); locals = []; items = ([]) }); post = (record { opened = []; facts = ((Rel relation.Eq (Var 0 sort.Val) (Of unary.Vi (Number (pos 0)))) ∷ []); locals = []; items = ([]) }) }) ∷ []) }) (record { is_void = false; name = name_reverse; params = (name_p ∷ []); vars = ((name_l, sort.List) ∷ (name_v, sort.Val) ∷ []); pre = (record { opened = []; facts = ([]); locals = ((name_p, (Var 1 sort.Val)) ∷ []); items = ((Pred (record { name = name_listrep; args = ((Var 1 sort.Val) ∷ (Var 0 sort.List) ∷ []) })) ∷ []) }); post = (record { opened = []; facts = ([]); locals = []; items = ((Pred (record { name = name_listrep; args = ((Var 2 sort.Val) ∷ (Of unary.Rev (Var 0 sort.List)) ∷ []) })) ∷ []) }) }) (record { temps = (name_p ∷ name_w ∷ name_t ∷ []); body = (c.Then (c.Set 1 (c.Const 0)) (c.Then (c.Loop (c.Then (c.If (c.Pointers (c.Temp 0) (c.Const 0) false) (c.Then (c.Load 2 (root.Temp 0) (c.Offset 1 c.Here)) (c.Then (c.Store (root.Temp 0) (c.Offset 1 c.Here) (c.Temp 1)) (c.Then (c.Set 1 (c.Temp 0)) (c.Then (c.Set 0 (c.Temp 2)) c.End)))) (c.Then c.Break c.End)) c.End)) (c.Then (c.Return (Some (c.Temp 1))) c.End))) }) (s.Then 1 (s.Set ([]) ([])) s.NoBlock (s.Then 2 (s.While (record { opened = (sort.List ∷ sort.List ∷ sort.Val ∷ sort.Val ∷ []); facts = ((Rel relation.Eq (Named name_l) (Of2 binary.App (Of unary.Rev (Var 0 sort.List)) (Var 1 sort.List))) ∷ []); locals = ((name_w, (Var 2 sort.Val)) ∷ (name_p, (Var 3 sort.Val)) ∷ []); items = ((Pred (record { name = name_listrep; args = ((Var 2 sort.Val) ∷ (Var 0 sort.List) ∷ []) })) ∷ (Pred (record { name = name_listrep; args = ((Var 3 sort.Val) ∷ (Var 1 sort.List) ∷ []) })) ∷ []) }) (record { opened = (sort.List ∷ sort.Val ∷ []); facts = ((Rel relation.Eq (Named name_l) (Of unary.Rev (Var 0 sort.List))) ∷ []); locals = ((name_w, (Var 1 sort.Val)) ∷ []); items = ((Pred (record { name = name_listrep; args = ((Var 1 sort.Val) ∷ (Var 0 sort.List) ∷ []) })) ∷ []) }) (name_a ∷ name_x ∷ []) ([]) (name_a ∷ name_b ∷ name_x ∷ name_l ∷ [])) (s.WithBlock (s.Then 3 (s.Fold name_listrep 0 ((Of unary.Vi (Number (pos 0))) ∷ Nil ∷ []) ([]) ([])) s.NoBlock (s.Then 4 (s.Meet (Nil ∷ (Named name_l) ∷ (Of unary.Vi (Number (pos 0))) ∷ (Named name_v) ∷ []) ([])) s.NoBlock s.End)) (s.WithBlock (s.Then 5 (s.Unfold 1 (([]) ∷ (name_h ∷ name_s ∷ name_q ∷ []) ∷ [])) (s.WithBlock (s.Then 6 (s.Subst name_y) s.NoBlock (s.Then 7 (s.Subst name_b) s.NoBlock (s.Then 8 (s.If ([]) ([]) ([]) ([])) (s.WithBlock (s.Then 9 (s.Absurd ([])) s.NoBlock s.End) (s.WithBlock (s.Then 10 (s.Law name_app_nil ((Of unary.Rev (Named name_a)) ∷ []) ([])) s.NoBlock (s.Then 11 (s.Rewrite false 2 (occurrence.Prop 0)) s.NoBlock (s.Then 12 (s.Break ((Named name_a) ∷ (Named name_x) ∷ []) ([])) s.NoBlock s.End))) s.NoBlock)) s.End))) (s.WithBlock (s.Then 13 (s.Subst name_b) s.NoBlock (s.Then 14 (s.If (1 ∷ []) ([]) ([]) ([])) (s.WithBlock (s.Then 15 (s.Load 1 ([]) ([])) s.NoBlock (s.Then 16 (s.Store 1 ([]) ([])) s.NoBlock (s.Then 17 (s.Set ([]) ([])) s.NoBlock (s.Then 18 (s.Set ([]) ([])) s.NoBlock (s.Then 19 (s.Fold name_listrep 1 ((Named name_y) ∷ (Of2 binary.Cons (Named name_h) (Named name_a)) ∷ []) ((Named name_h) ∷ (Named name_a) ∷ (Named name_x) ∷ []) ([])) s.NoBlock (s.Then 20 (s.Law name_rev_cons ((Named name_h) ∷ (Named name_a) ∷ []) ([])) s.NoBlock (s.Then 21 (s.Law name_app_assoc ((Of unary.Rev (Named name_a)) ∷ (Of2 binary.Cons (Named name_h) Nil) ∷ (Named name_s) ∷ []) ([])) s.NoBlock (s.Then 22 (s.Rewrite true 2 (occurrence.Prop 3)) s.NoBlock (s.Then 23 (s.Rewrite true 3 (occurrence.Prop 0)) s.NoBlock (s.Then 24 (s.Fall ((Of2 binary.Cons (Named name_h) (Named name_a)) ∷ (Named name_s) ∷ (Named name_y) ∷ (Named name_q) ∷ []) ([])) s.NoBlock s.End)))))))))) (s.WithBlock (s.Then 25 (s.Bounds 1 None ([])) s.NoBlock (s.Then 26 (s.Subst name_y) s.NoBlock (s.Then 27 (s.Absurd ([])) s.NoBlock s.End))) s.NoBlock)) s.End)) s.NoBlock)) s.End) s.NoBlock)) (s.Then 28 (s.Law name_rev_rev ((Named name_a) ∷ []) ([])) s.NoBlock (s.Then 29 (s.Rewrite true 0 (occurrence.Prop 1)) s.NoBlock (s.Then 30 (s.Rewrite true 1 (occurrence.Item 0)) s.NoBlock (s.Then 31 (s.Return ([]) ([]) ([])) s.NoBlock s.End)))))) ≡ (RefusedAt 2 6 6)
unfolding computing
edges_18 = refl

edges_19 : body_verdict (record { predicates = ((record { name = name_listrep; args = (sort.Val ∷ sort.List ∷ []); cases = ((record { opened = []; facts = ((Rel relation.Eq (Var 0 sort.Val) (Of unary.Vi (Number (pos 0)))) ∷ (Rel relation.Eq (Var 1 sort.List) Nil) ∷ []); locals = []; items = ([]) }) ∷ (record { opened = (sort.Val ∷ sort.List ∷ sort.Val ∷ []); facts = ((Rel relation.Eq (Var 1 sort.List) (Of2 binary.Cons (Var 2 sort.Val) (Var 3 sort.List))) ∷ []); locals = []; items = ((Data (Number (pos 64)) (Var 0 sort.Val) (Of2 binary.Cons (Var 2 sort.Val) (Of2 binary.Cons (Var 4 sort.Val) Nil))) ∷ (Pred (record { name = name_listrep; args = ((Var 4 sort.Val) ∷ (Var 3 sort.List) ∷ []) })) ∷ []) }) ∷ []) }) ∷ []); specs = ((record { is_void = false; name = name_reverse; params = (name_p ∷ []); vars = ((name_l, sort.List) ∷ (name_v, sort.Val) ∷ []); pre = (record { opened = []; facts = ([]); locals = ((name_p, (Var 1 sort.Val)) ∷ []); items = ((Pred (record { name = name_listrep; args = ((Var 1 sort.Val) ∷ (Var 0 sort.List) ∷ []) })) ∷ []) }); post = (record { opened = []; facts = ([]); locals = []; items = ((Pred (record { name = name_listrep; args = ((Var 2 sort.Val) ∷ (Of unary.Rev (Var 0 sort.List)) ∷ []) })) ∷ []) }) }) ∷ (record { is_void = false; name = name_main; params = ([]); vars = []; pre = (record { opened = []; facts = ([]); locals = []; items = ([]) }); post = (record { opened = []; facts = ((Rel relation.Eq (Var 0 sort.Val) (Of unary.Vi (Number (pos 0)))) ∷ []); locals = []; items = ([]) }) }) ∷ []) }) (record { is_void = false; name = name_reverse; params = (name_p ∷ []); vars = ((name_l, sort.List) ∷ (name_v, sort.Val) ∷ []); pre = (record { opened = []; facts = ([]); locals = ((name_p, (Var 1 sort.Val)) ∷ []); items = ((Pred (record { name = name_listrep; args = ((Var 1 sort.Val) ∷ (Var 0 sort.List) ∷ []) })) ∷ []) }); post = (record { opened = []; facts = ([]); locals = []; items = ((Pred (record { name = name_listrep; args = ((Var 2 sort.Val) ∷ (Of unary.Rev (Var 0 sort.List)) ∷ []) })) ∷ []) }) }) (record { temps = (name_p ∷ name_w ∷ name_t ∷ []); body = (c.Then (c.Set 1 (c.Const 0)) (c.Then (c.Loop (c.Then (c.If (c.Pointers (c.Temp 0) (c.Const 0) false) (c.Then (c.Load 2 (root.Temp 0) (c.Offset 1 c.Here)) (c.Then (c.Store (root.Temp 0) (c.Offset 1 c.Here) (c.Temp 1)) (c.Then (c.Set 1 (c.Temp 0)) (c.Then (c.Set 0 (c.Temp 2)) c.End)))) (c.Then c.Break c.End)) c.End)) (c.Then (c.Return (Some (c.Temp 1))) c.End))) }) (s.Then 1 (s.Set ([]) ([])) s.NoBlock (s.Then 2 (s.While (record { opened = (sort.List ∷ sort.List ∷ sort.Val ∷ sort.Val ∷ []); facts = ((Rel relation.Eq (Named name_l) (Of2 binary.App (Of unary.Rev (Var 0 sort.List)) (Var 1 sort.List))) ∷ []); locals = ((name_w, (Var 2 sort.Val)) ∷ (name_p, (Var 3 sort.Val)) ∷ []); items = ((Pred (record { name = name_listrep; args = ((Var 2 sort.Val) ∷ (Var 0 sort.List) ∷ []) })) ∷ (Pred (record { name = name_listrep; args = ((Var 3 sort.Val) ∷ (Var 1 sort.List) ∷ []) })) ∷ []) }) (record { opened = (sort.List ∷ sort.Val ∷ []); facts = ((Rel relation.Eq (Named name_l) (Of unary.Rev (Var 0 sort.List))) ∷ []); locals = ((name_w, (Var 1 sort.Val)) ∷ []); items = ((Pred (record { name = name_listrep; args = ((Var 1 sort.Val) ∷ (Var 0 sort.List) ∷ []) })) ∷ []) }) (name_a ∷ name_x ∷ []) ([]) (name_a ∷ name_b ∷ name_x ∷ name_y ∷ [])) (s.WithBlock (s.Then 3 (s.Fold name_listrep 0 ((Of unary.Vi (Number (pos 0))) ∷ Nil ∷ []) ([]) ([])) s.NoBlock (s.Then 4 (s.Meet (Nil ∷ (Named name_l) ∷ (Of unary.Vi (Number (pos 0))) ∷ (Named name_v) ∷ []) ([])) s.NoBlock s.End)) (s.WithBlock (s.Then 5 (s.Unfold 1 (([]) ∷ (name_h ∷ name_s ∷ name_a ∷ []) ∷ [])) (s.WithBlock (s.Then 6 (s.Subst name_y) s.NoBlock (s.Then 7 (s.Subst name_b) s.NoBlock (s.Then 8 (s.If ([]) ([]) ([]) ([])) (s.WithBlock (s.Then 9 (s.Absurd ([])) s.NoBlock s.End) (s.WithBlock (s.Then 10 (s.Law name_app_nil ((Of unary.Rev (Named name_a)) ∷ []) ([])) s.NoBlock (s.Then 11 (s.Rewrite false 2 (occurrence.Prop 0)) s.NoBlock (s.Then 12 (s.Break ((Named name_a) ∷ (Named name_x) ∷ []) ([])) s.NoBlock s.End))) s.NoBlock)) s.End))) (s.WithBlock (s.Then 13 (s.Subst name_b) s.NoBlock (s.Then 14 (s.If (1 ∷ []) ([]) ([]) ([])) (s.WithBlock (s.Then 15 (s.Load 1 ([]) ([])) s.NoBlock (s.Then 16 (s.Store 1 ([]) ([])) s.NoBlock (s.Then 17 (s.Set ([]) ([])) s.NoBlock (s.Then 18 (s.Set ([]) ([])) s.NoBlock (s.Then 19 (s.Fold name_listrep 1 ((Named name_y) ∷ (Of2 binary.Cons (Named name_h) (Named name_a)) ∷ []) ((Named name_h) ∷ (Named name_a) ∷ (Named name_x) ∷ []) ([])) s.NoBlock (s.Then 20 (s.Law name_rev_cons ((Named name_h) ∷ (Named name_a) ∷ []) ([])) s.NoBlock (s.Then 21 (s.Law name_app_assoc ((Of unary.Rev (Named name_a)) ∷ (Of2 binary.Cons (Named name_h) Nil) ∷ (Named name_s) ∷ []) ([])) s.NoBlock (s.Then 22 (s.Rewrite true 2 (occurrence.Prop 3)) s.NoBlock (s.Then 23 (s.Rewrite true 3 (occurrence.Prop 0)) s.NoBlock (s.Then 24 (s.Fall ((Of2 binary.Cons (Named name_h) (Named name_a)) ∷ (Named name_s) ∷ (Named name_y) ∷ (Named name_q) ∷ []) ([])) s.NoBlock s.End)))))))))) (s.WithBlock (s.Then 25 (s.Bounds 1 None ([])) s.NoBlock (s.Then 26 (s.Subst name_y) s.NoBlock (s.Then 27 (s.Absurd ([])) s.NoBlock s.End))) s.NoBlock)) s.End)) s.NoBlock)) s.End) s.NoBlock)) (s.Then 28 (s.Law name_rev_rev ((Named name_a) ∷ []) ([])) s.NoBlock (s.Then 29 (s.Rewrite true 0 (occurrence.Prop 1)) s.NoBlock (s.Then 30 (s.Rewrite true 1 (occurrence.Item 0)) s.NoBlock (s.Then 31 (s.Return ([]) ([]) ([])) s.NoBlock s.End)))))) ≡ (RefusedAt 5 22 6)
unfolding computing
edges_19 = refl

edges_20 : body_verdict (record { predicates = ((record { name = name_listrep; args = (sort.Val ∷ sort.List ∷ []); cases = ((record { opened = []; facts = ((Rel relation.Eq (Var 0 sort.Val) (Of unary.Vi (Number (pos 0)))) ∷ (Rel relation.Eq (Var 1 sort.List) Nil) ∷ []); locals = []; items = ([]) }) ∷ (record { opened = (sort.Val ∷ sort.List ∷ sort.Val ∷ []); facts = ((Rel relation.Eq (Var 1 sort.List) (Of2 binary.Cons (Var 2 sort.Val) (Var 3 sort.List))) ∷ []); locals = []; items = ((Data (Number (pos 64)) (Var 0 sort.Val) (Of2 binary.Cons (Var 2 sort.Val) (Of2 binary.Cons (Var 4 sort.Val) Nil))) ∷ (Pred (record { name = name_listrep; args = ((Var 4 sort.Val) ∷ (Var 3 sort.List) ∷ []) })) ∷ []) }) ∷ []) }) ∷ []); specs = ((record { is_void = false; name = name_reverse; params = (name_p ∷ []); vars = ((name_l, sort.List) ∷ (name_v, sort.Val) ∷ []); pre = (record { opened = []; facts = ([]); locals = ((name_p, (Var 1 sort.Val)) ∷ []); items = ((Pred (record { name = name_listrep; args = ((Var 1 sort.Val) ∷ (Var 0 sort.List) ∷ []) })) ∷ []) }); post = (record { opened = []; facts = ([]); locals = []; items = ((Pred (record { name = name_listrep; args = ((Var 2 sort.Val) ∷ (Of unary.Rev (Var 0 sort.List)) ∷ []) })) ∷ []) }) }) ∷ (record { is_void = false; name = name_main; params = ([]); vars = []; pre = (record { opened = []; facts = ([]); locals = []; items = ([]) }); post = (record { opened = []; facts = ((Rel relation.Eq (Var 0 sort.Val) (Of unary.Vi (Number (pos 0)))) ∷ []); locals = []; items = ([]) }) }) ∷ []) }) (record { is_void = false; name = name_reverse; params = (name_p ∷ []); vars = ((name_l, sort.List) ∷ (name_v, sort.Val) ∷ []); pre = (record { opened = []; facts = ([]); locals = ((name_p, (Var 1 sort.Val)) ∷ []); items = ((Pred (record { name = name_listrep; args = ((Var 1 sort.Val) ∷ (Var 0 sort.List) ∷ []) })) ∷ []) }); post = (record { opened = []; facts = ([]); locals = []; items = ((Pred (record { name = name_listrep; args = ((Var 2 sort.Val) ∷ (Of unary.Rev (Var 0 sort.List)) ∷ []) })) ∷ []) }) }) (record { temps = (name_p ∷ name_w ∷ name_t ∷ []); body = (c.Then (c.Set 1 (c.Const 0)) (c.Then (c.Loop (c.Then (c.If (c.Pointers (c.Temp 0) (c.Const 0) false) (c.Then (c.Load 2 (root.Temp 0) (c.Offset 1 c.Here)) (c.Then (c.Store (root.Temp 0) (c.Offset 1 c.Here) (c.Temp 1)) (c.Then (c.Set 1 (c.Temp 0)) (c.Then (c.Set 0 (c.Temp 2)) c.End)))) (c.Then c.Break c.End)) c.End)) (c.Then (c.Return (Some (c.Temp 1))) c.End))) }) (s.Then 1 (s.Set ([]) ([])) s.NoBlock (s.Then 2 (s.While (record { opened = (sort.List ∷ sort.List ∷ sort.Val ∷ sort.Val ∷ []); facts = ((Rel relation.Eq (Named name_l) (Of2 binary.App (Of unary.Rev (Var 0 sort.List)) (Var 1 sort.List))) ∷ []); locals = ((name_w, (Var 2 sort.Val)) ∷ (name_p, (Var 3 sort.Val)) ∷ []); items = ((Pred (record { name = name_listrep; args = ((Var 2 sort.Val) ∷ (Var 0 sort.List) ∷ []) })) ∷ (Pred (record { name = name_listrep; args = ((Var 3 sort.Val) ∷ (Var 1 sort.List) ∷ []) })) ∷ []) }) (record { opened = (sort.List ∷ sort.Val ∷ []); facts = ((Rel relation.Eq (Named name_l) (Of unary.Rev (Var 0 sort.List))) ∷ []); locals = ((name_w, (Var 1 sort.Val)) ∷ []); items = ((Pred (record { name = name_listrep; args = ((Var 1 sort.Val) ∷ (Var 0 sort.List) ∷ []) })) ∷ []) }) (name_a ∷ name_x ∷ []) ([]) (name_a ∷ name_b ∷ name_x ∷ name_y ∷ [])) (s.WithBlock (s.Then 3 (s.Fold name_listrep 0 ((Of unary.Vi (Number (pos 0))) ∷ Nil ∷ []) ([]) ([])) s.NoBlock (s.Then 4 (s.Meet (Nil ∷ (Named name_l) ∷ (Of unary.Vi (Number (pos 0))) ∷ (Named name_v) ∷ []) ([])) s.NoBlock s.End)) (s.WithBlock (s.Then 5 (s.Unfold 1 (([]) ∷ (name_h ∷ name_s ∷ name_q ∷ []) ∷ [])) (s.WithBlock (s.Then 6 (s.Subst name_y) s.NoBlock (s.Then 7 (s.Subst name_b) s.NoBlock (s.Then 8 (s.If ([]) ([]) (name_k ∷ []) ([])) (s.WithBlock (s.Then 9 (s.Absurd ([])) s.NoBlock s.End) (s.WithBlock (s.Then 10 (s.Law name_app_nil ((Of unary.Rev (Named name_a)) ∷ []) ([])) s.NoBlock (s.Then 11 (s.Rewrite false 2 (occurrence.Prop 0)) s.NoBlock (s.Then 12 (s.Break ((Named name_a) ∷ (Named name_x) ∷ []) ([])) s.NoBlock s.End))) s.NoBlock)) s.End))) (s.WithBlock (s.Then 13 (s.Subst name_b) s.NoBlock (s.Then 14 (s.If (1 ∷ []) ([]) ([]) ([])) (s.WithBlock (s.Then 15 (s.Load 1 ([]) ([])) s.NoBlock (s.Then 16 (s.Store 1 ([]) ([])) s.NoBlock (s.Then 17 (s.Set ([]) ([])) s.NoBlock (s.Then 18 (s.Set ([]) ([])) s.NoBlock (s.Then 19 (s.Fold name_listrep 1 ((Named name_y) ∷ (Of2 binary.Cons (Named name_h) (Named name_a)) ∷ []) ((Named name_h) ∷ (Named name_a) ∷ (Named name_x) ∷ []) ([])) s.NoBlock (s.Then 20 (s.Law name_rev_cons ((Named name_h) ∷ (Named name_a) ∷ []) ([])) s.NoBlock (s.Then 21 (s.Law name_app_assoc ((Of unary.Rev (Named name_a)) ∷ (Of2 binary.Cons (Named name_h) Nil) ∷ (Named name_s) ∷ []) ([])) s.NoBlock (s.Then 22 (s.Rewrite true 2 (occurrence.Prop 3)) s.NoBlock (s.Then 23 (s.Rewrite true 3 (occurrence.Prop 0)) s.NoBlock (s.Then 24 (s.Fall ((Of2 binary.Cons (Named name_h) (Named name_a)) ∷ (Named name_s) ∷ (Named name_y) ∷ (Named name_q) ∷ []) ([])) s.NoBlock s.End)))))))))) (s.WithBlock (s.Then 25 (s.Bounds 1 None ([])) s.NoBlock (s.Then 26 (s.Subst name_y) s.NoBlock (s.Then 27 (s.Absurd ([])) s.NoBlock s.End))) s.NoBlock)) s.End)) s.NoBlock)) s.End) s.NoBlock)) (s.Then 28 (s.Law name_rev_rev ((Named name_a) ∷ []) ([])) s.NoBlock (s.Then 29 (s.Rewrite true 0 (occurrence.Prop 1)) s.NoBlock (s.Then 30 (s.Rewrite true 1 (occurrence.Item 0)) s.NoBlock (s.Then 31 (s.Return ([]) ([]) ([])) s.NoBlock s.End)))))) ≡ (RefusedAt 8 5 6)
unfolding computing
edges_20 = refl

edges_21 : body_verdict (record { predicates = ([]); specs = ((record { is_void = true; name = name_f; params = (name_p ∷ []); vars = ((name_v, sort.Val) ∷ []); pre = (record { opened = []; facts = ([]); locals = ((name_p, (Var 0 sort.Val)) ∷ []); items = ((Data (Number (pos 64)) (Var 0 sort.Val) (Of2 binary.Rep Undef (Number (pos 16)))) ∷ []) }); post = (record { opened = []; facts = ([]); locals = []; items = ((Data (Number (pos 64)) (Var 0 sort.Val) (Of3 ternary.Upd (Of2 binary.Rep Undef (Number (pos 16))) (Number (pos 3)) (Of unary.Vi (Number (pos 1))))) ∷ []) }) }) ∷ []) }) (record { is_void = true; name = name_f; params = (name_p ∷ []); vars = ((name_v, sort.Val) ∷ []); pre = (record { opened = []; facts = ([]); locals = ((name_p, (Var 0 sort.Val)) ∷ []); items = ((Data (Number (pos 64)) (Var 0 sort.Val) (Of2 binary.Rep Undef (Number (pos 16)))) ∷ []) }); post = (record { opened = []; facts = ([]); locals = []; items = ((Data (Number (pos 64)) (Var 0 sort.Val) (Of3 ternary.Upd (Of2 binary.Rep Undef (Number (pos 16))) (Number (pos 3)) (Of unary.Vi (Number (pos 1))))) ∷ []) }) }) (record { temps = (name_p ∷ []); body = (c.Then (c.Store (root.Temp 0) (c.Index kind.Signed (c.Const 3) c.Here) (c.Const 1)) (c.Then (c.Return None) c.End)) }) (s.Then 1 (s.Store 0 ([]) ([])) s.NoBlock (s.Then 2 (s.Return ([]) ([]) ([])) s.NoBlock s.End)) ≡ Accepted
unfolding computing
edges_21 = refl

edges_22 : body_verdict (record { predicates = ([]); specs = ((record { is_void = true; name = name_f; params = (name_p ∷ []); vars = ((name_v, sort.Val) ∷ []); pre = (record { opened = []; facts = ([]); locals = ((name_p, (Var 0 sort.Val)) ∷ []); items = ((Data (Number (pos 64)) (Var 0 sort.Val) (Of2 binary.Rep Undef (Number (pos 16)))) ∷ []) }); post = (record { opened = []; facts = ([]); locals = []; items = ((Data (Number (pos 64)) (Var 0 sort.Val) (Of2 binary.Cons (Of unary.Vi (Number (pos 1))) (Of3 ternary.Slice (Of2 binary.Rep Undef (Number (pos 16))) (Number (pos 1)) (Number (pos 16))))) ∷ []) }) }) ∷ []) }) (record { is_void = true; name = name_f; params = (name_p ∷ []); vars = ((name_v, sort.Val) ∷ []); pre = (record { opened = []; facts = ([]); locals = ((name_p, (Var 0 sort.Val)) ∷ []); items = ((Data (Number (pos 64)) (Var 0 sort.Val) (Of2 binary.Rep Undef (Number (pos 16)))) ∷ []) }); post = (record { opened = []; facts = ([]); locals = []; items = ((Data (Number (pos 64)) (Var 0 sort.Val) (Of2 binary.Cons (Of unary.Vi (Number (pos 1))) (Of3 ternary.Slice (Of2 binary.Rep Undef (Number (pos 16))) (Number (pos 1)) (Number (pos 16))))) ∷ []) }) }) (record { temps = (name_p ∷ []); body = (c.Then (c.Store (root.Temp 0) (c.Index kind.Signed (c.Const 0) c.Here) (c.Const 1)) (c.Then (c.Return None) c.End)) }) (s.Then 1 (s.Store 0 ([]) ([])) s.NoBlock (s.Then 2 (s.Return ([]) ([]) ([])) s.NoBlock s.End)) ≡ (RefusedAt 2 9 5)
unfolding computing
edges_22 = refl

edges_23 : body_verdict (record { predicates = ([]); specs = ((record { is_void = true; name = name_f; params = (name_p ∷ []); vars = ((name_v, sort.Val) ∷ []); pre = (record { opened = []; facts = ([]); locals = ((name_p, (Var 0 sort.Val)) ∷ []); items = ((Data (Number (pos 64)) (Var 0 sort.Val) (Of2 binary.Rep Undef (Number (pos 16)))) ∷ []) }); post = (record { opened = []; facts = ([]); locals = []; items = ((Data (Number (pos 64)) (Var 0 sort.Val) (Of2 binary.Cons Undef (Of2 binary.Cons Undef (Of2 binary.Cons Undef (Of2 binary.Cons Undef (Of2 binary.Cons Undef (Of2 binary.Cons Undef (Of2 binary.Cons Undef (Of2 binary.Cons Undef (Of2 binary.Cons Undef (Of2 binary.Cons Undef (Of2 binary.Cons Undef (Of2 binary.Cons Undef (Of2 binary.Cons Undef (Of2 binary.Cons Undef (Of2 binary.Cons Undef (Of2 binary.Cons Undef Nil))))))))))))))))) ∷ []) }) }) ∷ []) }) (record { is_void = true; name = name_f; params = (name_p ∷ []); vars = ((name_v, sort.Val) ∷ []); pre = (record { opened = []; facts = ([]); locals = ((name_p, (Var 0 sort.Val)) ∷ []); items = ((Data (Number (pos 64)) (Var 0 sort.Val) (Of2 binary.Rep Undef (Number (pos 16)))) ∷ []) }); post = (record { opened = []; facts = ([]); locals = []; items = ((Data (Number (pos 64)) (Var 0 sort.Val) (Of2 binary.Cons Undef (Of2 binary.Cons Undef (Of2 binary.Cons Undef (Of2 binary.Cons Undef (Of2 binary.Cons Undef (Of2 binary.Cons Undef (Of2 binary.Cons Undef (Of2 binary.Cons Undef (Of2 binary.Cons Undef (Of2 binary.Cons Undef (Of2 binary.Cons Undef (Of2 binary.Cons Undef (Of2 binary.Cons Undef (Of2 binary.Cons Undef (Of2 binary.Cons Undef (Of2 binary.Cons Undef Nil))))))))))))))))) ∷ []) }) }) (record { temps = (name_p ∷ []); body = (c.Then (c.Return None) c.End) }) (s.Then 1 (s.Return ([]) ([]) ([])) s.NoBlock s.End) ≡ Accepted
unfolding computing
edges_23 = refl

edges_24 : body_verdict (record { predicates = ([]); specs = ((record { is_void = true; name = name_f; params = (name_p ∷ []); vars = ((name_v, sort.Val) ∷ []); pre = (record { opened = []; facts = ([]); locals = ((name_p, (Var 0 sort.Val)) ∷ []); items = ((Data (Number (pos 64)) (Var 0 sort.Val) (Of2 binary.Rep Undef (Number (pos 17)))) ∷ []) }); post = (record { opened = []; facts = ([]); locals = []; items = ((Data (Number (pos 64)) (Var 0 sort.Val) (Of3 ternary.Upd (Of2 binary.Rep Undef (Number (pos 17))) (Number (pos 3)) (Of unary.Vi (Number (pos 1))))) ∷ []) }) }) ∷ []) }) (record { is_void = true; name = name_f; params = (name_p ∷ []); vars = ((name_v, sort.Val) ∷ []); pre = (record { opened = []; facts = ([]); locals = ((name_p, (Var 0 sort.Val)) ∷ []); items = ((Data (Number (pos 64)) (Var 0 sort.Val) (Of2 binary.Rep Undef (Number (pos 17)))) ∷ []) }); post = (record { opened = []; facts = ([]); locals = []; items = ((Data (Number (pos 64)) (Var 0 sort.Val) (Of3 ternary.Upd (Of2 binary.Rep Undef (Number (pos 17))) (Number (pos 3)) (Of unary.Vi (Number (pos 1))))) ∷ []) }) }) (record { temps = (name_p ∷ []); body = (c.Then (c.Store (root.Temp 0) (c.Index kind.Signed (c.Const 3) c.Here) (c.Const 1)) (c.Then (c.Return None) c.End)) }) (s.Then 1 (s.Store 0 ([]) ([])) s.NoBlock (s.Then 2 (s.Return ([]) ([]) ([])) s.NoBlock s.End)) ≡ (RefusedAt 1 4 3)
unfolding computing
edges_24 = refl

edges_25 : body_verdict (record { predicates = ([]); specs = ((record { is_void = true; name = name_f; params = (name_p ∷ []); vars = ((name_v, sort.Val) ∷ []); pre = (record { opened = []; facts = ([]); locals = ((name_p, (Var 0 sort.Val)) ∷ []); items = ((Data (Number (pos 64)) (Var 0 sort.Val) (Of2 binary.Rep Undef (Number (pos 17)))) ∷ []) }); post = (record { opened = []; facts = ([]); locals = []; items = ((Data (Number (pos 64)) (Var 0 sort.Val) (Of2 binary.Cons (Of unary.Vi (Number (pos 1))) (Of3 ternary.Slice (Of2 binary.Rep Undef (Number (pos 17))) (Number (pos 1)) (Number (pos 17))))) ∷ []) }) }) ∷ []) }) (record { is_void = true; name = name_f; params = (name_p ∷ []); vars = ((name_v, sort.Val) ∷ []); pre = (record { opened = []; facts = ([]); locals = ((name_p, (Var 0 sort.Val)) ∷ []); items = ((Data (Number (pos 64)) (Var 0 sort.Val) (Of2 binary.Rep Undef (Number (pos 17)))) ∷ []) }); post = (record { opened = []; facts = ([]); locals = []; items = ((Data (Number (pos 64)) (Var 0 sort.Val) (Of2 binary.Cons (Of unary.Vi (Number (pos 1))) (Of3 ternary.Slice (Of2 binary.Rep Undef (Number (pos 17))) (Number (pos 1)) (Number (pos 17))))) ∷ []) }) }) (record { temps = (name_p ∷ []); body = (c.Then (c.Store (root.Temp 0) (c.Index kind.Signed (c.Const 0) c.Here) (c.Const 1)) (c.Then (c.Return None) c.End)) }) (s.Then 1 (s.Store 0 ([]) ([])) s.NoBlock (s.Then 2 (s.Return ([]) ([]) ([])) s.NoBlock s.End)) ≡ (RefusedAt 1 4 3)
unfolding computing
edges_25 = refl

edges_26 : body_verdict (record { predicates = ([]); specs = ((record { is_void = true; name = name_f; params = (name_p ∷ []); vars = ((name_v, sort.Val) ∷ []); pre = (record { opened = []; facts = ([]); locals = ((name_p, (Var 0 sort.Val)) ∷ []); items = ((Data (Number (pos 64)) (Var 0 sort.Val) (Of2 binary.Rep Undef (Number (pos 17)))) ∷ []) }); post = (record { opened = []; facts = ([]); locals = []; items = ((Data (Number (pos 64)) (Var 0 sort.Val) (Of2 binary.Cons Undef (Of2 binary.Cons Undef (Of2 binary.Cons Undef (Of2 binary.Cons Undef (Of2 binary.Cons Undef (Of2 binary.Cons Undef (Of2 binary.Cons Undef (Of2 binary.Cons Undef (Of2 binary.Cons Undef (Of2 binary.Cons Undef (Of2 binary.Cons Undef (Of2 binary.Cons Undef (Of2 binary.Cons Undef (Of2 binary.Cons Undef (Of2 binary.Cons Undef (Of2 binary.Cons Undef (Of2 binary.Cons Undef Nil)))))))))))))))))) ∷ []) }) }) ∷ []) }) (record { is_void = true; name = name_f; params = (name_p ∷ []); vars = ((name_v, sort.Val) ∷ []); pre = (record { opened = []; facts = ([]); locals = ((name_p, (Var 0 sort.Val)) ∷ []); items = ((Data (Number (pos 64)) (Var 0 sort.Val) (Of2 binary.Rep Undef (Number (pos 17)))) ∷ []) }); post = (record { opened = []; facts = ([]); locals = []; items = ((Data (Number (pos 64)) (Var 0 sort.Val) (Of2 binary.Cons Undef (Of2 binary.Cons Undef (Of2 binary.Cons Undef (Of2 binary.Cons Undef (Of2 binary.Cons Undef (Of2 binary.Cons Undef (Of2 binary.Cons Undef (Of2 binary.Cons Undef (Of2 binary.Cons Undef (Of2 binary.Cons Undef (Of2 binary.Cons Undef (Of2 binary.Cons Undef (Of2 binary.Cons Undef (Of2 binary.Cons Undef (Of2 binary.Cons Undef (Of2 binary.Cons Undef (Of2 binary.Cons Undef Nil)))))))))))))))))) ∷ []) }) }) (record { temps = (name_p ∷ []); body = (c.Then (c.Return None) c.End) }) (s.Then 1 (s.Return ([]) ([]) ([])) s.NoBlock s.End) ≡ (RefusedAt 1 9 5)
unfolding computing
edges_26 = refl

edges_27 : body_verdict (record { predicates = ([]); specs = ((record { is_void = false; name = name_f; params = (name_p ∷ []); vars = ((name_v, sort.Val) ∷ []); pre = (record { opened = []; facts = ([]); locals = ((name_p, (Of2 binary.Off (Of2 binary.Off (Var 0 sort.Val) (Number (pos 1))) (Number (pos 2)))) ∷ []); items = ((Data (Number (pos 64)) (Of2 binary.Off (Var 0 sort.Val) (Of2 binary.Add (Number (pos 1)) (Number (pos 2)))) (Of2 binary.Cons (Of unary.Vi (Number (pos 4))) Nil)) ∷ []) }); post = (record { opened = []; facts = ((Rel relation.Eq (Var 1 sort.Val) (Of unary.Vi (Number (pos 4)))) ∷ []); locals = []; items = ((Data (Number (pos 64)) (Of2 binary.Off (Of2 binary.Off (Of2 binary.Off (Var 0 sort.Val) (Number (pos 5))) (Of2 binary.Sub (Number (pos 0)) (Number (pos 3)))) (Number (pos 1))) (Of2 binary.Cons (Of unary.Vi (Number (pos 4))) Nil)) ∷ []) }) }) ∷ []) }) (record { is_void = false; name = name_f; params = (name_p ∷ []); vars = ((name_v, sort.Val) ∷ []); pre = (record { opened = []; facts = ([]); locals = ((name_p, (Of2 binary.Off (Of2 binary.Off (Var 0 sort.Val) (Number (pos 1))) (Number (pos 2)))) ∷ []); items = ((Data (Number (pos 64)) (Of2 binary.Off (Var 0 sort.Val) (Of2 binary.Add (Number (pos 1)) (Number (pos 2)))) (Of2 binary.Cons (Of unary.Vi (Number (pos 4))) Nil)) ∷ []) }); post = (record { opened = []; facts = ((Rel relation.Eq (Var 1 sort.Val) (Of unary.Vi (Number (pos 4)))) ∷ []); locals = []; items = ((Data (Number (pos 64)) (Of2 binary.Off (Of2 binary.Off (Of2 binary.Off (Var 0 sort.Val) (Number (pos 5))) (Of2 binary.Sub (Number (pos 0)) (Number (pos 3)))) (Number (pos 1))) (Of2 binary.Cons (Of unary.Vi (Number (pos 4))) Nil)) ∷ []) }) }) (record { temps = (name_p ∷ name_t ∷ []); body = (c.Then (c.Load 1 (root.Temp 0) c.Here) (c.Then (c.Return (Some (c.Temp 1))) c.End)) }) (s.Then 1 (s.Load 0 ([]) ([])) s.NoBlock (s.Then 2 (s.Return ([]) ([]) ([])) s.NoBlock s.End)) ≡ Accepted
unfolding computing
edges_27 = refl

edges_28 : body_verdict (record { predicates = ([]); specs = ((record { is_void = false; name = name_f; params = (name_p ∷ []); vars = ((name_v, sort.Val) ∷ []); pre = (record { opened = []; facts = ([]); locals = ((name_p, (Var 0 sort.Val)) ∷ []); items = ((Data (Number (pos 64)) (Of2 binary.Off (Var 0 sort.Val) (Of2 binary.Sub (Number (pos 0)) (Number (pos 1)))) (Of2 binary.Cons (Of unary.Vi (Number (pos 4))) (Of2 binary.Cons (Of unary.Vi (Number (pos 5))) Nil))) ∷ []) }); post = (record { opened = []; facts = ((Rel relation.Eq (Var 1 sort.Val) (Of unary.Vi (Number (pos 5)))) ∷ []); locals = []; items = ((Data (Number (pos 64)) (Of2 binary.Off (Var 0 sort.Val) (Of2 binary.Sub (Number (pos 0)) (Number (pos 1)))) (Of2 binary.Cons (Of unary.Vi (Number (pos 4))) (Of2 binary.Cons (Of unary.Vi (Number (pos 5))) Nil))) ∷ []) }) }) ∷ []) }) (record { is_void = false; name = name_f; params = (name_p ∷ []); vars = ((name_v, sort.Val) ∷ []); pre = (record { opened = []; facts = ([]); locals = ((name_p, (Var 0 sort.Val)) ∷ []); items = ((Data (Number (pos 64)) (Of2 binary.Off (Var 0 sort.Val) (Of2 binary.Sub (Number (pos 0)) (Number (pos 1)))) (Of2 binary.Cons (Of unary.Vi (Number (pos 4))) (Of2 binary.Cons (Of unary.Vi (Number (pos 5))) Nil))) ∷ []) }); post = (record { opened = []; facts = ((Rel relation.Eq (Var 1 sort.Val) (Of unary.Vi (Number (pos 5)))) ∷ []); locals = []; items = ((Data (Number (pos 64)) (Of2 binary.Off (Var 0 sort.Val) (Of2 binary.Sub (Number (pos 0)) (Number (pos 1)))) (Of2 binary.Cons (Of unary.Vi (Number (pos 4))) (Of2 binary.Cons (Of unary.Vi (Number (pos 5))) Nil))) ∷ []) }) }) (record { temps = (name_p ∷ name_t ∷ []); body = (c.Then (c.Load 1 (root.Temp 0) c.Here) (c.Then (c.Return (Some (c.Temp 1))) c.End)) }) (s.Then 1 (s.Load 0 ([]) ([])) s.NoBlock (s.Then 2 (s.Return ([]) ([]) ([])) s.NoBlock s.End)) ≡ Accepted
unfolding computing
edges_28 = refl

edges_29 : body_verdict (record { predicates = ([]); specs = ((record { is_void = false; name = name_f; params = (name_p ∷ []); vars = ((name_v, sort.Val) ∷ []); pre = (record { opened = []; facts = ([]); locals = ((name_p, (Var 0 sort.Val)) ∷ []); items = ((Data (Number (pos 64)) (Var 0 sort.Val) (Of2 binary.Cons (Of unary.Vi (Number (pos 4))) Nil)) ∷ []) }); post = (record { opened = []; facts = ([]); locals = []; items = ((Data (Number (pos 64)) (Var 0 sort.Val) (Of2 binary.Cons (Of unary.Vi (Number (pos 4))) Nil)) ∷ []) }) }) ∷ []) }) (record { is_void = false; name = name_f; params = (name_p ∷ []); vars = ((name_v, sort.Val) ∷ []); pre = (record { opened = []; facts = ([]); locals = ((name_p, (Var 0 sort.Val)) ∷ []); items = ((Data (Number (pos 64)) (Var 0 sort.Val) (Of2 binary.Cons (Of unary.Vi (Number (pos 4))) Nil)) ∷ []) }); post = (record { opened = []; facts = ([]); locals = []; items = ((Data (Number (pos 64)) (Var 0 sort.Val) (Of2 binary.Cons (Of unary.Vi (Number (pos 4))) Nil)) ∷ []) }) }) (record { temps = (name_p ∷ name_t ∷ []); body = (c.Then (c.Load 1 (root.Temp 0) c.Here) (c.Then (c.Return (Some (c.Temp 1))) c.End)) }) (s.Then 1 (s.Load 0 ([]) ([])) s.NoBlock (s.Then 2 (s.Return ([]) ([]) ([])) s.NoBlock s.End)) ≡ Accepted
unfolding computing
edges_29 = refl

edges_30 : body_verdict (record { predicates = ([]); specs = ((record { is_void = false; name = name_f; params = (name_p ∷ []); vars = ((name_v, sort.Val) ∷ []); pre = (record { opened = []; facts = ([]); locals = ((name_p, (Var 0 sort.Val)) ∷ []); items = ((Data (Number (pos 64)) (Var 0 sort.Val) Nil) ∷ []) }); post = (record { opened = []; facts = ([]); locals = []; items = ((Data (Number (pos 64)) (Var 0 sort.Val) Nil) ∷ []) }) }) ∷ []) }) (record { is_void = false; name = name_f; params = (name_p ∷ []); vars = ((name_v, sort.Val) ∷ []); pre = (record { opened = []; facts = ([]); locals = ((name_p, (Var 0 sort.Val)) ∷ []); items = ((Data (Number (pos 64)) (Var 0 sort.Val) Nil) ∷ []) }); post = (record { opened = []; facts = ([]); locals = []; items = ((Data (Number (pos 64)) (Var 0 sort.Val) Nil) ∷ []) }) }) (record { temps = (name_p ∷ name_t ∷ []); body = (c.Then (c.Load 1 (root.Temp 0) c.Here) (c.Then (c.Return (Some (c.Temp 1))) c.End)) }) (s.Then 1 (s.Load 0 ([]) ([])) s.NoBlock (s.Then 2 (s.Return ([]) ([]) ([])) s.NoBlock s.End)) ≡ (RefusedAt 1 3 3)
unfolding computing
edges_30 = refl

edges_31 : body_verdict (record { predicates = ([]); specs = ((record { is_void = true; name = name_f; params = (name_p ∷ []); vars = ((name_v, sort.Val) ∷ []); pre = (record { opened = []; facts = ([]); locals = ((name_p, (Var 0 sort.Val)) ∷ []); items = ((Data (Number (pos 63)) (Var 0 sort.Val) (Of2 binary.Cons (Of unary.Vi (Number (pos 4))) Nil)) ∷ []) }); post = (record { opened = []; facts = ([]); locals = []; items = ((Data (Number (pos 63)) (Var 0 sort.Val) (Of2 binary.Cons (Of unary.Vi (Number (pos 1))) Nil)) ∷ []) }) }) ∷ []) }) (record { is_void = true; name = name_f; params = (name_p ∷ []); vars = ((name_v, sort.Val) ∷ []); pre = (record { opened = []; facts = ([]); locals = ((name_p, (Var 0 sort.Val)) ∷ []); items = ((Data (Number (pos 63)) (Var 0 sort.Val) (Of2 binary.Cons (Of unary.Vi (Number (pos 4))) Nil)) ∷ []) }); post = (record { opened = []; facts = ([]); locals = []; items = ((Data (Number (pos 63)) (Var 0 sort.Val) (Of2 binary.Cons (Of unary.Vi (Number (pos 1))) Nil)) ∷ []) }) }) (record { temps = (name_p ∷ []); body = (c.Then (c.Store (root.Temp 0) c.Here (c.Const 1)) (c.Then (c.Return None) c.End)) }) (s.Then 1 (s.Store 0 ([]) ([])) s.NoBlock (s.Then 2 (s.Return ([]) ([]) ([])) s.NoBlock s.End)) ≡ (RefusedAt 1 4 3)
unfolding computing
edges_31 = refl

edges_32 : body_verdict (record { predicates = ([]); specs = ((record { is_void = true; name = name_f; params = (name_p ∷ []); vars = ((name_v, sort.Val) ∷ []); pre = (record { opened = []; facts = ([]); locals = ((name_p, (Var 0 sort.Val)) ∷ []); items = ((Data (Number (pos 64)) (Var 0 sort.Val) (Of2 binary.Cons (Of unary.Vi (Number (pos 4))) Nil)) ∷ []) }); post = (record { opened = []; facts = ([]); locals = []; items = ((Data (Number (pos 64)) (Var 0 sort.Val) (Of2 binary.Cons (Of unary.Vi (Number (pos 1))) Nil)) ∷ []) }) }) ∷ []) }) (record { is_void = true; name = name_f; params = (name_p ∷ []); vars = ((name_v, sort.Val) ∷ []); pre = (record { opened = []; facts = ([]); locals = ((name_p, (Var 0 sort.Val)) ∷ []); items = ((Data (Number (pos 64)) (Var 0 sort.Val) (Of2 binary.Cons (Of unary.Vi (Number (pos 4))) Nil)) ∷ []) }); post = (record { opened = []; facts = ([]); locals = []; items = ((Data (Number (pos 64)) (Var 0 sort.Val) (Of2 binary.Cons (Of unary.Vi (Number (pos 1))) Nil)) ∷ []) }) }) (record { temps = (name_p ∷ []); body = (c.Then (c.Store (root.Temp 0) c.Here (c.Const 1)) (c.Then (c.Return None) c.End)) }) (s.Then 1 (s.Store 0 ([]) ([])) s.NoBlock (s.Then 2 (s.Return ([]) ([]) ([])) s.NoBlock s.End)) ≡ Accepted
unfolding computing
edges_32 = refl

edges_33 : body_verdict (record { predicates = ((record { name = name_A; args = (sort.Int ∷ []); cases = ((record { opened = []; facts = ([]); locals = []; items = ([]) }) ∷ []) }) ∷ []); specs = ((record { is_void = true; name = name_f; params = (name_p ∷ []); vars = ((name_a, sort.Int) ∷ []); pre = (record { opened = []; facts = ([]); locals = []; items = ((Holds (Global name_l) (record { name = name_A; args = ((Number (pos 1)) ∷ []) })) ∷ (Pred (record { name = name_A; args = ((Number (pos 1)) ∷ []) })) ∷ []) }); post = (record { opened = []; facts = ([]); locals = []; items = ([]) }) }) ∷ []) }) (record { is_void = true; name = name_f; params = (name_p ∷ []); vars = ((name_a, sort.Int) ∷ []); pre = (record { opened = []; facts = ([]); locals = []; items = ((Holds (Global name_l) (record { name = name_A; args = ((Number (pos 1)) ∷ []) })) ∷ (Pred (record { name = name_A; args = ((Number (pos 1)) ∷ []) })) ∷ []) }); post = (record { opened = []; facts = ([]); locals = []; items = ([]) }) }) (record { temps = (name_p ∷ []); body = (c.Then (c.OnLock lock.Release (c.Address (root.Global name_l 1) c.Here)) (c.Then (c.Return None) c.End)) }) (s.Then 1 (s.Release 0 1 ([])) s.NoBlock (s.Then 2 (s.Return ([]) ([]) ([])) s.NoBlock s.End)) ≡ Accepted
unfolding computing
edges_33 = refl

edges_34 : body_verdict (record { predicates = ((record { name = name_A; args = (sort.Int ∷ []); cases = ((record { opened = []; facts = ([]); locals = []; items = ([]) }) ∷ []) }) ∷ []); specs = ((record { is_void = true; name = name_f; params = (name_p ∷ []); vars = ((name_a, sort.Int) ∷ []); pre = (record { opened = []; facts = ([]); locals = []; items = ((Holds (Global name_l) (record { name = name_A; args = ((Number (pos 1)) ∷ []) })) ∷ (Pred (record { name = name_A; args = ((Number (pos 2)) ∷ []) })) ∷ []) }); post = (record { opened = []; facts = ([]); locals = []; items = ([]) }) }) ∷ []) }) (record { is_void = true; name = name_f; params = (name_p ∷ []); vars = ((name_a, sort.Int) ∷ []); pre = (record { opened = []; facts = ([]); locals = []; items = ((Holds (Global name_l) (record { name = name_A; args = ((Number (pos 1)) ∷ []) })) ∷ (Pred (record { name = name_A; args = ((Number (pos 2)) ∷ []) })) ∷ []) }); post = (record { opened = []; facts = ([]); locals = []; items = ([]) }) }) (record { temps = (name_p ∷ []); body = (c.Then (c.OnLock lock.Release (c.Address (root.Global name_l 1) c.Here)) (c.Then (c.Return None) c.End)) }) (s.Then 1 (s.Release 0 1 ([])) s.NoBlock (s.Then 2 (s.Return ([]) ([]) ([])) s.NoBlock s.End)) ≡ (RefusedAt 1 18 1)
unfolding computing
edges_34 = refl

edges_35 : body_verdict (record { predicates = ((record { name = name_A; args = (sort.Int ∷ []); cases = ((record { opened = []; facts = ([]); locals = []; items = ([]) }) ∷ []) }) ∷ []); specs = ((record { is_void = true; name = name_f; params = (name_p ∷ []); vars = ((name_a, sort.Int) ∷ []); pre = (record { opened = []; facts = ([]); locals = []; items = ((Holds (Global name_l) (record { name = name_A; args = ((Number (pos 1)) ∷ []) })) ∷ (Pred (record { name = name_A; args = ((Number (pos 1)) ∷ []) })) ∷ []) }); post = (record { opened = []; facts = ([]); locals = []; items = ([]) }) }) ∷ []) }) (record { is_void = true; name = name_f; params = (name_p ∷ []); vars = ((name_a, sort.Int) ∷ []); pre = (record { opened = []; facts = ([]); locals = []; items = ((Holds (Global name_l) (record { name = name_A; args = ((Number (pos 1)) ∷ []) })) ∷ (Pred (record { name = name_A; args = ((Number (pos 1)) ∷ []) })) ∷ []) }); post = (record { opened = []; facts = ([]); locals = []; items = ([]) }) }) (record { temps = (name_p ∷ []); body = (c.Then (c.OnLock lock.Release (c.Address (root.Global name_l 1) c.Here)) (c.Then (c.Return None) c.End)) }) (s.Then 1 (s.Release 1 0 ([])) s.NoBlock (s.Then 2 (s.Return ([]) ([]) ([])) s.NoBlock s.End)) ≡ (RefusedAt 1 18 1)
unfolding computing
edges_35 = refl

edges_36 : body_verdict (record { predicates = ((record { name = name_A; args = (sort.Int ∷ []); cases = ((record { opened = []; facts = ([]); locals = []; items = ([]) }) ∷ []) }) ∷ []); specs = ((record { is_void = true; name = name_f; params = (name_p ∷ []); vars = ((name_a, sort.Int) ∷ []); pre = (record { opened = []; facts = ([]); locals = []; items = ((Lock (Number (pos 63)) (Global name_l) (record { name = name_A; args = ((Number (pos 1)) ∷ []) })) ∷ (Holds (Global name_l) (record { name = name_A; args = ((Number (pos 1)) ∷ []) })) ∷ []) }); post = (record { opened = []; facts = ([]); locals = []; items = ((Data (Number (pos 64)) (Global name_l) (Of2 binary.Cons Undef Nil)) ∷ []) }) }) ∷ []) }) (record { is_void = true; name = name_f; params = (name_p ∷ []); vars = ((name_a, sort.Int) ∷ []); pre = (record { opened = []; facts = ([]); locals = []; items = ((Lock (Number (pos 63)) (Global name_l) (record { name = name_A; args = ((Number (pos 1)) ∷ []) })) ∷ (Holds (Global name_l) (record { name = name_A; args = ((Number (pos 1)) ∷ []) })) ∷ []) }); post = (record { opened = []; facts = ([]); locals = []; items = ((Data (Number (pos 64)) (Global name_l) (Of2 binary.Cons Undef Nil)) ∷ []) }) }) (record { temps = (name_p ∷ []); body = (c.Then (c.OnLock lock.Free (c.Address (root.Global name_l 1) c.Here)) (c.Then (c.Return None) c.End)) }) (s.Then 1 (s.FreeLock 0 1 ([]) ([])) s.NoBlock (s.Then 2 (s.Return ([]) ([]) ([])) s.NoBlock s.End)) ≡ (RefusedAt 1 19 3)
unfolding computing
edges_36 = refl

edges_37 : body_verdict (record { predicates = ((record { name = name_A; args = (sort.Int ∷ []); cases = ((record { opened = []; facts = ([]); locals = []; items = ([]) }) ∷ []) }) ∷ []); specs = ((record { is_void = true; name = name_f; params = (name_p ∷ []); vars = ((name_a, sort.Int) ∷ []); pre = (record { opened = []; facts = ([]); locals = []; items = ((Lock (Number (pos 64)) (Global name_l) (record { name = name_A; args = ((Number (pos 1)) ∷ []) })) ∷ (Holds (Global name_l) (record { name = name_A; args = ((Number (pos 1)) ∷ []) })) ∷ []) }); post = (record { opened = []; facts = ([]); locals = []; items = ((Data (Number (pos 64)) (Global name_l) (Of2 binary.Cons Undef Nil)) ∷ []) }) }) ∷ []) }) (record { is_void = true; name = name_f; params = (name_p ∷ []); vars = ((name_a, sort.Int) ∷ []); pre = (record { opened = []; facts = ([]); locals = []; items = ((Lock (Number (pos 64)) (Global name_l) (record { name = name_A; args = ((Number (pos 1)) ∷ []) })) ∷ (Holds (Global name_l) (record { name = name_A; args = ((Number (pos 1)) ∷ []) })) ∷ []) }); post = (record { opened = []; facts = ([]); locals = []; items = ((Data (Number (pos 64)) (Global name_l) (Of2 binary.Cons Undef Nil)) ∷ []) }) }) (record { temps = (name_p ∷ []); body = (c.Then (c.OnLock lock.Free (c.Address (root.Global name_l 1) c.Here)) (c.Then (c.Return None) c.End)) }) (s.Then 1 (s.FreeLock 0 1 ([]) ([])) s.NoBlock (s.Then 2 (s.Return ([]) ([]) ([])) s.NoBlock s.End)) ≡ Accepted
unfolding computing
edges_37 = refl

edges_38 : body_verdict (record { predicates = ((record { name = name_A; args = (sort.Int ∷ []); cases = ((record { opened = []; facts = ([]); locals = []; items = ([]) }) ∷ []) }) ∷ []); specs = ((record { is_void = true; name = name_f; params = (name_p ∷ []); vars = ((name_a, sort.Int) ∷ []); pre = (record { opened = []; facts = ([]); locals = []; items = ((Lock (Number (pos 63)) (Global name_l) (record { name = name_A; args = ((Number (pos 1)) ∷ []) })) ∷ (Holds (Global name_m) (record { name = name_A; args = ((Number (pos 1)) ∷ []) })) ∷ []) }); post = (record { opened = []; facts = ([]); locals = []; items = ((Data (Number (pos 64)) (Global name_l) (Of2 binary.Cons Undef Nil)) ∷ []) }) }) ∷ []) }) (record { is_void = true; name = name_f; params = (name_p ∷ []); vars = ((name_a, sort.Int) ∷ []); pre = (record { opened = []; facts = ([]); locals = []; items = ((Lock (Number (pos 63)) (Global name_l) (record { name = name_A; args = ((Number (pos 1)) ∷ []) })) ∷ (Holds (Global name_m) (record { name = name_A; args = ((Number (pos 1)) ∷ []) })) ∷ []) }); post = (record { opened = []; facts = ([]); locals = []; items = ((Data (Number (pos 64)) (Global name_l) (Of2 binary.Cons Undef Nil)) ∷ []) }) }) (record { temps = (name_p ∷ []); body = (c.Then (c.OnLock lock.Free (c.Address (root.Global name_l 1) c.Here)) (c.Then (c.Return None) c.End)) }) (s.Then 1 (s.FreeLock 0 1 ([]) ([])) s.NoBlock (s.Then 2 (s.Return ([]) ([]) ([])) s.NoBlock s.End)) ≡ (RefusedAt 1 19 1)
unfolding computing
edges_38 = refl

edges_39 : body_verdict (record { predicates = ((record { name = name_A; args = (sort.Int ∷ []); cases = ((record { opened = []; facts = ([]); locals = []; items = ([]) }) ∷ []) }) ∷ []); specs = ((record { is_void = true; name = name_f; params = (name_p ∷ []); vars = ((name_a, sort.Int) ∷ []); pre = (record { opened = []; facts = ([]); locals = []; items = ((Lock (Number (pos 64)) (Global name_l) (record { name = name_A; args = ((Number (pos 1)) ∷ []) })) ∷ (Holds (Global name_m) (record { name = name_A; args = ((Number (pos 1)) ∷ []) })) ∷ []) }); post = (record { opened = []; facts = ([]); locals = []; items = ((Data (Number (pos 64)) (Global name_l) (Of2 binary.Cons Undef Nil)) ∷ []) }) }) ∷ []) }) (record { is_void = true; name = name_f; params = (name_p ∷ []); vars = ((name_a, sort.Int) ∷ []); pre = (record { opened = []; facts = ([]); locals = []; items = ((Lock (Number (pos 64)) (Global name_l) (record { name = name_A; args = ((Number (pos 1)) ∷ []) })) ∷ (Holds (Global name_m) (record { name = name_A; args = ((Number (pos 1)) ∷ []) })) ∷ []) }); post = (record { opened = []; facts = ([]); locals = []; items = ((Data (Number (pos 64)) (Global name_l) (Of2 binary.Cons Undef Nil)) ∷ []) }) }) (record { temps = (name_p ∷ []); body = (c.Then (c.OnLock lock.Free (c.Address (root.Global name_l 1) c.Here)) (c.Then (c.Return None) c.End)) }) (s.Then 1 (s.FreeLock 0 1 ([]) ([])) s.NoBlock (s.Then 2 (s.Return ([]) ([]) ([])) s.NoBlock s.End)) ≡ (RefusedAt 1 19 1)
unfolding computing
edges_39 = refl

edges_40 : body_verdict (record { predicates = ((record { name = name_A; args = (sort.Int ∷ []); cases = ((record { opened = []; facts = ([]); locals = []; items = ([]) }) ∷ []) }) ∷ []); specs = ((record { is_void = true; name = name_f; params = (name_p ∷ []); vars = ((name_a, sort.Int) ∷ []); pre = (record { opened = []; facts = ([]); locals = []; items = ((Lock (Number (pos 63)) (Global name_l) (record { name = name_A; args = ((Number (pos 1)) ∷ []) })) ∷ (Holds (Global name_l) (record { name = name_A; args = ((Number (pos 2)) ∷ []) })) ∷ []) }); post = (record { opened = []; facts = ([]); locals = []; items = ((Data (Number (pos 64)) (Global name_l) (Of2 binary.Cons Undef Nil)) ∷ []) }) }) ∷ []) }) (record { is_void = true; name = name_f; params = (name_p ∷ []); vars = ((name_a, sort.Int) ∷ []); pre = (record { opened = []; facts = ([]); locals = []; items = ((Lock (Number (pos 63)) (Global name_l) (record { name = name_A; args = ((Number (pos 1)) ∷ []) })) ∷ (Holds (Global name_l) (record { name = name_A; args = ((Number (pos 2)) ∷ []) })) ∷ []) }); post = (record { opened = []; facts = ([]); locals = []; items = ((Data (Number (pos 64)) (Global name_l) (Of2 binary.Cons Undef Nil)) ∷ []) }) }) (record { temps = (name_p ∷ []); body = (c.Then (c.OnLock lock.Free (c.Address (root.Global name_l 1) c.Here)) (c.Then (c.Return None) c.End)) }) (s.Then 1 (s.FreeLock 0 1 ([]) ([])) s.NoBlock (s.Then 2 (s.Return ([]) ([]) ([])) s.NoBlock s.End)) ≡ (RefusedAt 1 19 3)
unfolding computing
edges_40 = refl

edges_41 : body_verdict (record { predicates = ((record { name = name_A; args = (sort.Int ∷ []); cases = ((record { opened = []; facts = ([]); locals = []; items = ([]) }) ∷ []) }) ∷ []); specs = ((record { is_void = true; name = name_f; params = (name_p ∷ []); vars = ((name_a, sort.Int) ∷ []); pre = (record { opened = []; facts = ([]); locals = []; items = ((Lock (Number (pos 64)) (Global name_l) (record { name = name_A; args = ((Number (pos 1)) ∷ []) })) ∷ (Holds (Global name_l) (record { name = name_A; args = ((Number (pos 2)) ∷ []) })) ∷ []) }); post = (record { opened = []; facts = ([]); locals = []; items = ((Data (Number (pos 64)) (Global name_l) (Of2 binary.Cons Undef Nil)) ∷ []) }) }) ∷ []) }) (record { is_void = true; name = name_f; params = (name_p ∷ []); vars = ((name_a, sort.Int) ∷ []); pre = (record { opened = []; facts = ([]); locals = []; items = ((Lock (Number (pos 64)) (Global name_l) (record { name = name_A; args = ((Number (pos 1)) ∷ []) })) ∷ (Holds (Global name_l) (record { name = name_A; args = ((Number (pos 2)) ∷ []) })) ∷ []) }); post = (record { opened = []; facts = ([]); locals = []; items = ((Data (Number (pos 64)) (Global name_l) (Of2 binary.Cons Undef Nil)) ∷ []) }) }) (record { temps = (name_p ∷ []); body = (c.Then (c.OnLock lock.Free (c.Address (root.Global name_l 1) c.Here)) (c.Then (c.Return None) c.End)) }) (s.Then 1 (s.FreeLock 0 1 ([]) ([])) s.NoBlock (s.Then 2 (s.Return ([]) ([]) ([])) s.NoBlock s.End)) ≡ Accepted
unfolding computing
edges_41 = refl

edges_42 : body_verdict (record { predicates = ((record { name = name_A; args = (sort.Int ∷ []); cases = ((record { opened = []; facts = ([]); locals = []; items = ([]) }) ∷ []) }) ∷ []); specs = ((record { is_void = true; name = name_f; params = (name_p ∷ []); vars = ((name_a, sort.Int) ∷ []); pre = (record { opened = []; facts = ([]); locals = []; items = ((Data (Number (pos 63)) (Global name_l) (Of2 binary.Cons Undef Nil)) ∷ []) }); post = (record { opened = []; facts = ([]); locals = []; items = ((Lock (Number (pos 64)) (Global name_l) (record { name = name_A; args = ((Number (pos 1)) ∷ []) })) ∷ (Holds (Global name_l) (record { name = name_A; args = ((Number (pos 1)) ∷ []) })) ∷ []) }) }) ∷ []) }) (record { is_void = true; name = name_f; params = (name_p ∷ []); vars = ((name_a, sort.Int) ∷ []); pre = (record { opened = []; facts = ([]); locals = []; items = ((Data (Number (pos 63)) (Global name_l) (Of2 binary.Cons Undef Nil)) ∷ []) }); post = (record { opened = []; facts = ([]); locals = []; items = ((Lock (Number (pos 64)) (Global name_l) (record { name = name_A; args = ((Number (pos 1)) ∷ []) })) ∷ (Holds (Global name_l) (record { name = name_A; args = ((Number (pos 1)) ∷ []) })) ∷ []) }) }) (record { temps = (name_p ∷ []); body = (c.Then (c.OnLock lock.Make (c.Address (root.Global name_l 1) c.Here)) (c.Then (c.Return None) c.End)) }) (s.Then 1 (s.MakeLock 0 (record { name = name_A; args = ((Number (pos 1)) ∷ []) }) ([]) ([])) s.NoBlock (s.Then 2 (s.Return ([]) ([]) ([])) s.NoBlock s.End)) ≡ (RefusedAt 1 16 3)
unfolding computing
edges_42 = refl

edges_43 : body_verdict (record { predicates = ((record { name = name_A; args = (sort.Int ∷ []); cases = ((record { opened = []; facts = ([]); locals = []; items = ([]) }) ∷ []) }) ∷ []); specs = ((record { is_void = true; name = name_f; params = (name_p ∷ []); vars = ((name_a, sort.Int) ∷ []); pre = (record { opened = []; facts = ([]); locals = []; items = ((Data (Number (pos 64)) (Global name_l) (Of2 binary.Cons Undef Nil)) ∷ []) }); post = (record { opened = []; facts = ([]); locals = []; items = ((Lock (Number (pos 64)) (Global name_l) (record { name = name_A; args = ((Number (pos 1)) ∷ []) })) ∷ (Holds (Global name_l) (record { name = name_A; args = ((Number (pos 1)) ∷ []) })) ∷ []) }) }) ∷ []) }) (record { is_void = true; name = name_f; params = (name_p ∷ []); vars = ((name_a, sort.Int) ∷ []); pre = (record { opened = []; facts = ([]); locals = []; items = ((Data (Number (pos 64)) (Global name_l) (Of2 binary.Cons Undef Nil)) ∷ []) }); post = (record { opened = []; facts = ([]); locals = []; items = ((Lock (Number (pos 64)) (Global name_l) (record { name = name_A; args = ((Number (pos 1)) ∷ []) })) ∷ (Holds (Global name_l) (record { name = name_A; args = ((Number (pos 1)) ∷ []) })) ∷ []) }) }) (record { temps = (name_p ∷ []); body = (c.Then (c.OnLock lock.Make (c.Address (root.Global name_l 1) c.Here)) (c.Then (c.Return None) c.End)) }) (s.Then 1 (s.MakeLock 0 (record { name = name_A; args = ((Number (pos 1)) ∷ []) }) ([]) ([])) s.NoBlock (s.Then 2 (s.Return ([]) ([]) ([])) s.NoBlock s.End)) ≡ Accepted
unfolding computing
edges_43 = refl

edges_44 : body_verdict (record { predicates = ((record { name = name_A; args = (sort.Int ∷ []); cases = ((record { opened = []; facts = ([]); locals = []; items = ([]) }) ∷ []) }) ∷ []); specs = ((record { is_void = true; name = name_f; params = (name_p ∷ []); vars = ((name_a, sort.Int) ∷ []); pre = (record { opened = []; facts = ([]); locals = []; items = ((Data (Number (pos 63)) (Global name_l) (Of2 binary.Cons Undef (Of2 binary.Cons Undef Nil))) ∷ []) }); post = (record { opened = []; facts = ([]); locals = []; items = ((Lock (Number (pos 64)) (Global name_l) (record { name = name_A; args = ((Number (pos 1)) ∷ []) })) ∷ (Holds (Global name_l) (record { name = name_A; args = ((Number (pos 1)) ∷ []) })) ∷ []) }) }) ∷ []) }) (record { is_void = true; name = name_f; params = (name_p ∷ []); vars = ((name_a, sort.Int) ∷ []); pre = (record { opened = []; facts = ([]); locals = []; items = ((Data (Number (pos 63)) (Global name_l) (Of2 binary.Cons Undef (Of2 binary.Cons Undef Nil))) ∷ []) }); post = (record { opened = []; facts = ([]); locals = []; items = ((Lock (Number (pos 64)) (Global name_l) (record { name = name_A; args = ((Number (pos 1)) ∷ []) })) ∷ (Holds (Global name_l) (record { name = name_A; args = ((Number (pos 1)) ∷ []) })) ∷ []) }) }) (record { temps = (name_p ∷ []); body = (c.Then (c.OnLock lock.Make (c.Address (root.Global name_l 1) c.Here)) (c.Then (c.Return None) c.End)) }) (s.Then 1 (s.MakeLock 0 (record { name = name_A; args = ((Number (pos 1)) ∷ []) }) ([]) ([])) s.NoBlock (s.Then 2 (s.Return ([]) ([]) ([])) s.NoBlock s.End)) ≡ (RefusedAt 1 16 3)
unfolding computing
edges_44 = refl

edges_45 : body_verdict (record { predicates = ((record { name = name_A; args = (sort.Int ∷ []); cases = ((record { opened = []; facts = ([]); locals = []; items = ([]) }) ∷ []) }) ∷ []); specs = ((record { is_void = true; name = name_f; params = (name_p ∷ []); vars = ((name_a, sort.Int) ∷ []); pre = (record { opened = []; facts = ([]); locals = []; items = ((Data (Number (pos 64)) (Global name_l) (Of2 binary.Cons Undef (Of2 binary.Cons Undef Nil))) ∷ []) }); post = (record { opened = []; facts = ([]); locals = []; items = ((Lock (Number (pos 64)) (Global name_l) (record { name = name_A; args = ((Number (pos 1)) ∷ []) })) ∷ (Holds (Global name_l) (record { name = name_A; args = ((Number (pos 1)) ∷ []) })) ∷ []) }) }) ∷ []) }) (record { is_void = true; name = name_f; params = (name_p ∷ []); vars = ((name_a, sort.Int) ∷ []); pre = (record { opened = []; facts = ([]); locals = []; items = ((Data (Number (pos 64)) (Global name_l) (Of2 binary.Cons Undef (Of2 binary.Cons Undef Nil))) ∷ []) }); post = (record { opened = []; facts = ([]); locals = []; items = ((Lock (Number (pos 64)) (Global name_l) (record { name = name_A; args = ((Number (pos 1)) ∷ []) })) ∷ (Holds (Global name_l) (record { name = name_A; args = ((Number (pos 1)) ∷ []) })) ∷ []) }) }) (record { temps = (name_p ∷ []); body = (c.Then (c.OnLock lock.Make (c.Address (root.Global name_l 1) c.Here)) (c.Then (c.Return None) c.End)) }) (s.Then 1 (s.MakeLock 0 (record { name = name_A; args = ((Number (pos 1)) ∷ []) }) ([]) ([])) s.NoBlock (s.Then 2 (s.Return ([]) ([]) ([])) s.NoBlock s.End)) ≡ (RefusedAt 1 16 3)
unfolding computing
edges_45 = refl

edges_46 : body_verdict (record { predicates = ((record { name = name_A; args = (sort.Int ∷ []); cases = ((record { opened = []; facts = ([]); locals = []; items = ([]) }) ∷ []) }) ∷ []); specs = ((record { is_void = true; name = name_f; params = (name_p ∷ []); vars = ((name_a, sort.Int) ∷ []); pre = (record { opened = []; facts = ([]); locals = []; items = ((Data (Number (pos 64)) (Global name_l) (Of2 binary.Cons Undef Nil)) ∷ []) }); post = (record { opened = []; facts = ([]); locals = []; items = ((Lock (Number (pos 64)) (Global name_l) (record { name = name_A; args = ((Var 0 sort.Int) ∷ []) })) ∷ (Holds (Global name_l) (record { name = name_A; args = ((Var 0 sort.Int) ∷ []) })) ∷ []) }) }) ∷ []) }) (record { is_void = true; name = name_f; params = (name_p ∷ []); vars = ((name_a, sort.Int) ∷ []); pre = (record { opened = []; facts = ([]); locals = []; items = ((Data (Number (pos 64)) (Global name_l) (Of2 binary.Cons Undef Nil)) ∷ []) }); post = (record { opened = []; facts = ([]); locals = []; items = ((Lock (Number (pos 64)) (Global name_l) (record { name = name_A; args = ((Var 0 sort.Int) ∷ []) })) ∷ (Holds (Global name_l) (record { name = name_A; args = ((Var 0 sort.Int) ∷ []) })) ∷ []) }) }) (record { temps = (name_p ∷ []); body = (c.Then (c.OnLock lock.Make (c.Address (root.Global name_l 1) c.Here)) (c.Then (c.Return None) c.End)) }) (s.Then 1 (s.MakeLock 0 (record { name = name_B; args = ((Number (pos 1)) ∷ []) }) ([]) ([])) s.NoBlock (s.Then 2 (s.Return ([]) ([]) ([])) s.NoBlock s.End)) ≡ (RefusedAt 1 16 7)
unfolding computing
edges_46 = refl

edges_47 : body_verdict (record { predicates = ((record { name = name_A; args = (sort.Int ∷ []); cases = ((record { opened = []; facts = ([]); locals = []; items = ([]) }) ∷ []) }) ∷ []); specs = ((record { is_void = true; name = name_f; params = (name_p ∷ []); vars = ((name_a, sort.Int) ∷ []); pre = (record { opened = []; facts = ([]); locals = []; items = ((Data (Number (pos 64)) (Global name_l) (Of2 binary.Cons Undef Nil)) ∷ []) }); post = (record { opened = []; facts = ([]); locals = []; items = ((Lock (Number (pos 64)) (Global name_l) (record { name = name_A; args = ((Var 0 sort.Int) ∷ []) })) ∷ (Holds (Global name_l) (record { name = name_A; args = ((Var 0 sort.Int) ∷ []) })) ∷ []) }) }) ∷ []) }) (record { is_void = true; name = name_f; params = (name_p ∷ []); vars = ((name_a, sort.Int) ∷ []); pre = (record { opened = []; facts = ([]); locals = []; items = ((Data (Number (pos 64)) (Global name_l) (Of2 binary.Cons Undef Nil)) ∷ []) }); post = (record { opened = []; facts = ([]); locals = []; items = ((Lock (Number (pos 64)) (Global name_l) (record { name = name_A; args = ((Var 0 sort.Int) ∷ []) })) ∷ (Holds (Global name_l) (record { name = name_A; args = ((Var 0 sort.Int) ∷ []) })) ∷ []) }) }) (record { temps = (name_p ∷ []); body = (c.Then (c.OnLock lock.Make (c.Address (root.Global name_l 1) c.Here)) (c.Then (c.Return None) c.End)) }) (s.Then 1 (s.MakeLock 0 (record { name = name_A; args = (Nil ∷ []) }) ([]) ([])) s.NoBlock (s.Then 2 (s.Return ([]) ([]) ([])) s.NoBlock s.End)) ≡ (RefusedAt 1 16 1)
unfolding computing
edges_47 = refl

edges_48 : body_verdict (record { predicates = ((record { name = name_A; args = (sort.Int ∷ []); cases = ((record { opened = []; facts = ([]); locals = []; items = ([]) }) ∷ []) }) ∷ []); specs = ((record { is_void = true; name = name_f; params = (name_p ∷ []); vars = ((name_a, sort.Int) ∷ []); pre = (record { opened = []; facts = ([]); locals = []; items = ((Data (Number (pos 64)) (Global name_l) (Of2 binary.Cons Undef Nil)) ∷ []) }); post = (record { opened = []; facts = ([]); locals = []; items = ((Lock (Number (pos 64)) (Global name_l) (record { name = name_A; args = ((Var 0 sort.Int) ∷ []) })) ∷ (Holds (Global name_l) (record { name = name_A; args = ((Var 0 sort.Int) ∷ []) })) ∷ []) }) }) ∷ []) }) (record { is_void = true; name = name_f; params = (name_p ∷ []); vars = ((name_a, sort.Int) ∷ []); pre = (record { opened = []; facts = ([]); locals = []; items = ((Data (Number (pos 64)) (Global name_l) (Of2 binary.Cons Undef Nil)) ∷ []) }); post = (record { opened = []; facts = ([]); locals = []; items = ((Lock (Number (pos 64)) (Global name_l) (record { name = name_A; args = ((Var 0 sort.Int) ∷ []) })) ∷ (Holds (Global name_l) (record { name = name_A; args = ((Var 0 sort.Int) ∷ []) })) ∷ []) }) }) (record { temps = (name_p ∷ []); body = (c.Then (c.OnLock lock.Make (c.Address (root.Global name_l 1) c.Here)) (c.Then (c.Return None) c.End)) }) (s.Then 1 (s.MakeLock 0 (record { name = name_A; args = ((Number (pos 1)) ∷ (Number (pos 2)) ∷ []) }) ([]) ([])) s.NoBlock (s.Then 2 (s.Return ([]) ([]) ([])) s.NoBlock s.End)) ≡ (RefusedAt 1 16 1)
unfolding computing
edges_48 = refl

edges_49 : body_verdict (record { predicates = ((record { name = name_A; args = (sort.Int ∷ []); cases = ((record { opened = []; facts = ([]); locals = []; items = ([]) }) ∷ []) }) ∷ []); specs = ((record { is_void = true; name = name_f; params = (name_p ∷ []); vars = ((name_a, sort.Int) ∷ []); pre = (record { opened = []; facts = ([]); locals = []; items = ((Data (Number (pos 64)) (Global name_l) (Of2 binary.Cons Undef Nil)) ∷ []) }); post = (record { opened = []; facts = ([]); locals = []; items = ((Lock (Number (pos 64)) (Global name_l) (record { name = name_A; args = ((Var 0 sort.Int) ∷ []) })) ∷ (Holds (Global name_l) (record { name = name_A; args = ((Var 0 sort.Int) ∷ []) })) ∷ []) }) }) ∷ []) }) (record { is_void = true; name = name_f; params = (name_p ∷ []); vars = ((name_a, sort.Int) ∷ []); pre = (record { opened = []; facts = ([]); locals = []; items = ((Data (Number (pos 64)) (Global name_l) (Of2 binary.Cons Undef Nil)) ∷ []) }); post = (record { opened = []; facts = ([]); locals = []; items = ((Lock (Number (pos 64)) (Global name_l) (record { name = name_A; args = ((Var 0 sort.Int) ∷ []) })) ∷ (Holds (Global name_l) (record { name = name_A; args = ((Var 0 sort.Int) ∷ []) })) ∷ []) }) }) (record { temps = (name_p ∷ []); body = (c.Then (c.OnLock lock.Make (c.Address (root.Global name_l 1) c.Here)) (c.Then (c.Return None) c.End)) }) (s.Then 1 (s.MakeLock 0 (record { name = name_A; args = ((Named name_a) ∷ []) }) ([]) ([])) s.NoBlock (s.Then 2 (s.Return ([]) ([]) ([])) s.NoBlock s.End)) ≡ Accepted
unfolding computing
edges_49 = refl

edges_50 : body_verdict (record { predicates = ([]); specs = ((record { is_void = true; name = name_f; params = (name_p ∷ []); vars = ((name_s, sort.Int) ∷ (name_t, sort.Int) ∷ (name_v, sort.Val) ∷ (name_w, sort.Val) ∷ (name_k, sort.List) ∷ (name_m, sort.List) ∷ []); pre = (record { opened = []; facts = ((Rel relation.Le (Number (pos 1)) (Of unary.Len (Var 4 sort.List))) ∷ (Rel relation.Le (Number (pos 1)) (Of unary.Len (Var 5 sort.List))) ∷ []); locals = []; items = ((Data (Var 0 sort.Int) (Var 2 sort.Val) (Var 4 sort.List)) ∷ (Data (Var 1 sort.Int) (Var 2 sort.Val) (Var 5 sort.List)) ∷ []) }); post = (record { opened = []; facts = ((Rel relation.Le (Of2 binary.Add (Var 0 sort.Int) (Var 1 sort.Int)) (Number (pos 64))) ∷ []); locals = []; items = ((Data (Var 0 sort.Int) (Var 2 sort.Val) (Var 4 sort.List)) ∷ (Data (Var 1 sort.Int) (Var 2 sort.Val) (Var 5 sort.List)) ∷ []) }) }) ∷ []) }) (record { is_void = true; name = name_f; params = (name_p ∷ []); vars = ((name_s, sort.Int) ∷ (name_t, sort.Int) ∷ (name_v, sort.Val) ∷ (name_w, sort.Val) ∷ (name_k, sort.List) ∷ (name_m, sort.List) ∷ []); pre = (record { opened = []; facts = ((Rel relation.Le (Number (pos 1)) (Of unary.Len (Var 4 sort.List))) ∷ (Rel relation.Le (Number (pos 1)) (Of unary.Len (Var 5 sort.List))) ∷ []); locals = []; items = ((Data (Var 0 sort.Int) (Var 2 sort.Val) (Var 4 sort.List)) ∷ (Data (Var 1 sort.Int) (Var 2 sort.Val) (Var 5 sort.List)) ∷ []) }); post = (record { opened = []; facts = ((Rel relation.Le (Of2 binary.Add (Var 0 sort.Int) (Var 1 sort.Int)) (Number (pos 64))) ∷ []); locals = []; items = ((Data (Var 0 sort.Int) (Var 2 sort.Val) (Var 4 sort.List)) ∷ (Data (Var 1 sort.Int) (Var 2 sort.Val) (Var 5 sort.List)) ∷ []) }) }) (record { temps = (name_p ∷ []); body = (c.Then (c.Return None) c.End) }) (s.Then 1 (s.Bounds 0 (Some 1) ([])) s.NoBlock (s.Then 2 (s.Return ([]) ([]) ([])) s.NoBlock s.End)) ≡ Accepted
unfolding computing
edges_50 = refl

edges_51 : body_verdict (record { predicates = ([]); specs = ((record { is_void = true; name = name_f; params = (name_p ∷ []); vars = ((name_s, sort.Int) ∷ (name_t, sort.Int) ∷ (name_v, sort.Val) ∷ (name_w, sort.Val) ∷ (name_k, sort.List) ∷ (name_m, sort.List) ∷ []); pre = (record { opened = []; facts = ((Rel relation.Le (Number (pos 1)) (Of unary.Len (Var 4 sort.List))) ∷ (Rel relation.Le (Number (pos 1)) (Of unary.Len (Var 5 sort.List))) ∷ (Rel relation.Le (Number (pos 65)) (Of2 binary.Add (Var 0 sort.Int) (Var 1 sort.Int))) ∷ []); locals = []; items = ((Data (Var 0 sort.Int) (Var 2 sort.Val) (Var 4 sort.List)) ∷ (Data (Var 1 sort.Int) (Var 2 sort.Val) (Var 5 sort.List)) ∷ []) }); post = (record { opened = []; facts = ((Rel relation.Ne (Var 2 sort.Val) (Var 2 sort.Val)) ∷ []); locals = []; items = ((Data (Var 0 sort.Int) (Var 2 sort.Val) (Var 4 sort.List)) ∷ (Data (Var 1 sort.Int) (Var 2 sort.Val) (Var 5 sort.List)) ∷ []) }) }) ∷ []) }) (record { is_void = true; name = name_f; params = (name_p ∷ []); vars = ((name_s, sort.Int) ∷ (name_t, sort.Int) ∷ (name_v, sort.Val) ∷ (name_w, sort.Val) ∷ (name_k, sort.List) ∷ (name_m, sort.List) ∷ []); pre = (record { opened = []; facts = ((Rel relation.Le (Number (pos 1)) (Of unary.Len (Var 4 sort.List))) ∷ (Rel relation.Le (Number (pos 1)) (Of unary.Len (Var 5 sort.List))) ∷ (Rel relation.Le (Number (pos 65)) (Of2 binary.Add (Var 0 sort.Int) (Var 1 sort.Int))) ∷ []); locals = []; items = ((Data (Var 0 sort.Int) (Var 2 sort.Val) (Var 4 sort.List)) ∷ (Data (Var 1 sort.Int) (Var 2 sort.Val) (Var 5 sort.List)) ∷ []) }); post = (record { opened = []; facts = ((Rel relation.Ne (Var 2 sort.Val) (Var 2 sort.Val)) ∷ []); locals = []; items = ((Data (Var 0 sort.Int) (Var 2 sort.Val) (Var 4 sort.List)) ∷ (Data (Var 1 sort.Int) (Var 2 sort.Val) (Var 5 sort.List)) ∷ []) }) }) (record { temps = (name_p ∷ []); body = (c.Then (c.Return None) c.End) }) (s.Then 1 (s.Apart 0 1 ([])) s.NoBlock (s.Then 2 (s.Return ([]) ([]) ([])) s.NoBlock s.End)) ≡ Accepted
unfolding computing
edges_51 = refl

edges_52 : body_verdict (record { predicates = ([]); specs = ((record { is_void = true; name = name_f; params = (name_p ∷ []); vars = ((name_s, sort.Int) ∷ (name_t, sort.Int) ∷ (name_v, sort.Val) ∷ (name_w, sort.Val) ∷ (name_k, sort.List) ∷ (name_m, sort.List) ∷ []); pre = (record { opened = []; facts = ((Rel relation.Le (Number (pos 1)) (Of unary.Len (Var 4 sort.List))) ∷ (Rel relation.Le (Number (pos 1)) (Of unary.Len (Var 5 sort.List))) ∷ (Rel relation.Le (Number (pos 64)) (Of2 binary.Add (Var 0 sort.Int) (Var 1 sort.Int))) ∷ []); locals = []; items = ((Data (Var 0 sort.Int) (Var 2 sort.Val) (Var 4 sort.List)) ∷ (Data (Var 1 sort.Int) (Var 2 sort.Val) (Var 5 sort.List)) ∷ []) }); post = (record { opened = []; facts = ((Rel relation.Ne (Var 2 sort.Val) (Var 2 sort.Val)) ∷ []); locals = []; items = ((Data (Var 0 sort.Int) (Var 2 sort.Val) (Var 4 sort.List)) ∷ (Data (Var 1 sort.Int) (Var 2 sort.Val) (Var 5 sort.List)) ∷ []) }) }) ∷ []) }) (record { is_void = true; name = name_f; params = (name_p ∷ []); vars = ((name_s, sort.Int) ∷ (name_t, sort.Int) ∷ (name_v, sort.Val) ∷ (name_w, sort.Val) ∷ (name_k, sort.List) ∷ (name_m, sort.List) ∷ []); pre = (record { opened = []; facts = ((Rel relation.Le (Number (pos 1)) (Of unary.Len (Var 4 sort.List))) ∷ (Rel relation.Le (Number (pos 1)) (Of unary.Len (Var 5 sort.List))) ∷ (Rel relation.Le (Number (pos 64)) (Of2 binary.Add (Var 0 sort.Int) (Var 1 sort.Int))) ∷ []); locals = []; items = ((Data (Var 0 sort.Int) (Var 2 sort.Val) (Var 4 sort.List)) ∷ (Data (Var 1 sort.Int) (Var 2 sort.Val) (Var 5 sort.List)) ∷ []) }); post = (record { opened = []; facts = ((Rel relation.Ne (Var 2 sort.Val) (Var 2 sort.Val)) ∷ []); locals = []; items = ((Data (Var 0 sort.Int) (Var 2 sort.Val) (Var 4 sort.List)) ∷ (Data (Var 1 sort.Int) (Var 2 sort.Val) (Var 5 sort.List)) ∷ []) }) }) (record { temps = (name_p ∷ []); body = (c.Then (c.Return None) c.End) }) (s.Then 1 (s.Apart 0 1 ([])) s.NoBlock (s.Then 2 (s.Return ([]) ([]) ([])) s.NoBlock s.End)) ≡ (RefusedAt 1 35 3)
unfolding computing
edges_52 = refl

edges_53 : body_verdict (record { predicates = ([]); specs = ((record { is_void = true; name = name_f; params = (name_p ∷ []); vars = ((name_s, sort.Int) ∷ (name_t, sort.Int) ∷ (name_v, sort.Val) ∷ (name_w, sort.Val) ∷ (name_k, sort.List) ∷ (name_m, sort.List) ∷ []); pre = (record { opened = []; facts = ((Rel relation.Le (Number (pos 1)) (Of unary.Len (Var 4 sort.List))) ∷ []); locals = []; items = ((Data (Var 0 sort.Int) (Var 2 sort.Val) (Var 4 sort.List)) ∷ (Data (Var 1 sort.Int) (Var 2 sort.Val) (Var 5 sort.List)) ∷ []) }); post = (record { opened = []; facts = ((Rel relation.Le (Of2 binary.Add (Var 0 sort.Int) (Var 1 sort.Int)) (Number (pos 64))) ∷ []); locals = []; items = ((Data (Var 0 sort.Int) (Var 2 sort.Val) (Var 4 sort.List)) ∷ (Data (Var 1 sort.Int) (Var 2 sort.Val) (Var 5 sort.List)) ∷ []) }) }) ∷ []) }) (record { is_void = true; name = name_f; params = (name_p ∷ []); vars = ((name_s, sort.Int) ∷ (name_t, sort.Int) ∷ (name_v, sort.Val) ∷ (name_w, sort.Val) ∷ (name_k, sort.List) ∷ (name_m, sort.List) ∷ []); pre = (record { opened = []; facts = ((Rel relation.Le (Number (pos 1)) (Of unary.Len (Var 4 sort.List))) ∷ []); locals = []; items = ((Data (Var 0 sort.Int) (Var 2 sort.Val) (Var 4 sort.List)) ∷ (Data (Var 1 sort.Int) (Var 2 sort.Val) (Var 5 sort.List)) ∷ []) }); post = (record { opened = []; facts = ((Rel relation.Le (Of2 binary.Add (Var 0 sort.Int) (Var 1 sort.Int)) (Number (pos 64))) ∷ []); locals = []; items = ((Data (Var 0 sort.Int) (Var 2 sort.Val) (Var 4 sort.List)) ∷ (Data (Var 1 sort.Int) (Var 2 sort.Val) (Var 5 sort.List)) ∷ []) }) }) (record { temps = (name_p ∷ []); body = (c.Then (c.Return None) c.End) }) (s.Then 1 (s.Bounds 0 (Some 1) ([])) s.NoBlock (s.Then 2 (s.Return ([]) ([]) ([])) s.NoBlock s.End)) ≡ (RefusedAt 1 34 3)
unfolding computing
edges_53 = refl

edges_54 : body_verdict (record { predicates = ([]); specs = ((record { is_void = true; name = name_f; params = (name_p ∷ []); vars = ((name_s, sort.Int) ∷ (name_t, sort.Int) ∷ (name_v, sort.Val) ∷ (name_w, sort.Val) ∷ (name_k, sort.List) ∷ (name_m, sort.List) ∷ []); pre = (record { opened = []; facts = ((Rel relation.Le (Number (pos 1)) (Of unary.Len (Var 4 sort.List))) ∷ (Rel relation.Le (Number (pos 65)) (Of2 binary.Add (Var 0 sort.Int) (Var 1 sort.Int))) ∷ []); locals = []; items = ((Data (Var 0 sort.Int) (Var 2 sort.Val) (Var 4 sort.List)) ∷ (Data (Var 1 sort.Int) (Var 2 sort.Val) (Var 5 sort.List)) ∷ []) }); post = (record { opened = []; facts = ((Rel relation.Ne (Var 2 sort.Val) (Var 2 sort.Val)) ∷ []); locals = []; items = ((Data (Var 0 sort.Int) (Var 2 sort.Val) (Var 4 sort.List)) ∷ (Data (Var 1 sort.Int) (Var 2 sort.Val) (Var 5 sort.List)) ∷ []) }) }) ∷ []) }) (record { is_void = true; name = name_f; params = (name_p ∷ []); vars = ((name_s, sort.Int) ∷ (name_t, sort.Int) ∷ (name_v, sort.Val) ∷ (name_w, sort.Val) ∷ (name_k, sort.List) ∷ (name_m, sort.List) ∷ []); pre = (record { opened = []; facts = ((Rel relation.Le (Number (pos 1)) (Of unary.Len (Var 4 sort.List))) ∷ (Rel relation.Le (Number (pos 65)) (Of2 binary.Add (Var 0 sort.Int) (Var 1 sort.Int))) ∷ []); locals = []; items = ((Data (Var 0 sort.Int) (Var 2 sort.Val) (Var 4 sort.List)) ∷ (Data (Var 1 sort.Int) (Var 2 sort.Val) (Var 5 sort.List)) ∷ []) }); post = (record { opened = []; facts = ((Rel relation.Ne (Var 2 sort.Val) (Var 2 sort.Val)) ∷ []); locals = []; items = ((Data (Var 0 sort.Int) (Var 2 sort.Val) (Var 4 sort.List)) ∷ (Data (Var 1 sort.Int) (Var 2 sort.Val) (Var 5 sort.List)) ∷ []) }) }) (record { temps = (name_p ∷ []); body = (c.Then (c.Return None) c.End) }) (s.Then 1 (s.Apart 0 1 ([])) s.NoBlock (s.Then 2 (s.Return ([]) ([]) ([])) s.NoBlock s.End)) ≡ (RefusedAt 1 35 3)
unfolding computing
edges_54 = refl

edges_55 : body_verdict (record { predicates = ([]); specs = ((record { is_void = true; name = name_f; params = (name_p ∷ []); vars = ((name_s, sort.Int) ∷ (name_t, sort.Int) ∷ (name_v, sort.Val) ∷ (name_w, sort.Val) ∷ (name_k, sort.List) ∷ (name_m, sort.List) ∷ []); pre = (record { opened = []; facts = ((Rel relation.Le (Number (pos 1)) (Of unary.Len (Var 4 sort.List))) ∷ (Rel relation.Le (Number (pos 64)) (Of2 binary.Add (Var 0 sort.Int) (Var 1 sort.Int))) ∷ []); locals = []; items = ((Data (Var 0 sort.Int) (Var 2 sort.Val) (Var 4 sort.List)) ∷ (Data (Var 1 sort.Int) (Var 2 sort.Val) (Var 5 sort.List)) ∷ []) }); post = (record { opened = []; facts = ((Rel relation.Ne (Var 2 sort.Val) (Var 2 sort.Val)) ∷ []); locals = []; items = ((Data (Var 0 sort.Int) (Var 2 sort.Val) (Var 4 sort.List)) ∷ (Data (Var 1 sort.Int) (Var 2 sort.Val) (Var 5 sort.List)) ∷ []) }) }) ∷ []) }) (record { is_void = true; name = name_f; params = (name_p ∷ []); vars = ((name_s, sort.Int) ∷ (name_t, sort.Int) ∷ (name_v, sort.Val) ∷ (name_w, sort.Val) ∷ (name_k, sort.List) ∷ (name_m, sort.List) ∷ []); pre = (record { opened = []; facts = ((Rel relation.Le (Number (pos 1)) (Of unary.Len (Var 4 sort.List))) ∷ (Rel relation.Le (Number (pos 64)) (Of2 binary.Add (Var 0 sort.Int) (Var 1 sort.Int))) ∷ []); locals = []; items = ((Data (Var 0 sort.Int) (Var 2 sort.Val) (Var 4 sort.List)) ∷ (Data (Var 1 sort.Int) (Var 2 sort.Val) (Var 5 sort.List)) ∷ []) }); post = (record { opened = []; facts = ((Rel relation.Ne (Var 2 sort.Val) (Var 2 sort.Val)) ∷ []); locals = []; items = ((Data (Var 0 sort.Int) (Var 2 sort.Val) (Var 4 sort.List)) ∷ (Data (Var 1 sort.Int) (Var 2 sort.Val) (Var 5 sort.List)) ∷ []) }) }) (record { temps = (name_p ∷ []); body = (c.Then (c.Return None) c.End) }) (s.Then 1 (s.Apart 0 1 ([])) s.NoBlock (s.Then 2 (s.Return ([]) ([]) ([])) s.NoBlock s.End)) ≡ (RefusedAt 1 35 3)
unfolding computing
edges_55 = refl

edges_56 : body_verdict (record { predicates = ([]); specs = ((record { is_void = true; name = name_f; params = (name_p ∷ []); vars = ((name_s, sort.Int) ∷ (name_t, sort.Int) ∷ (name_v, sort.Val) ∷ (name_w, sort.Val) ∷ (name_k, sort.List) ∷ (name_m, sort.List) ∷ []); pre = (record { opened = []; facts = ((Rel relation.Le (Number (pos 1)) (Of unary.Len (Var 5 sort.List))) ∷ []); locals = []; items = ((Data (Var 0 sort.Int) (Var 2 sort.Val) (Var 4 sort.List)) ∷ (Data (Var 1 sort.Int) (Var 2 sort.Val) (Var 5 sort.List)) ∷ []) }); post = (record { opened = []; facts = ((Rel relation.Le (Of2 binary.Add (Var 0 sort.Int) (Var 1 sort.Int)) (Number (pos 64))) ∷ []); locals = []; items = ((Data (Var 0 sort.Int) (Var 2 sort.Val) (Var 4 sort.List)) ∷ (Data (Var 1 sort.Int) (Var 2 sort.Val) (Var 5 sort.List)) ∷ []) }) }) ∷ []) }) (record { is_void = true; name = name_f; params = (name_p ∷ []); vars = ((name_s, sort.Int) ∷ (name_t, sort.Int) ∷ (name_v, sort.Val) ∷ (name_w, sort.Val) ∷ (name_k, sort.List) ∷ (name_m, sort.List) ∷ []); pre = (record { opened = []; facts = ((Rel relation.Le (Number (pos 1)) (Of unary.Len (Var 5 sort.List))) ∷ []); locals = []; items = ((Data (Var 0 sort.Int) (Var 2 sort.Val) (Var 4 sort.List)) ∷ (Data (Var 1 sort.Int) (Var 2 sort.Val) (Var 5 sort.List)) ∷ []) }); post = (record { opened = []; facts = ((Rel relation.Le (Of2 binary.Add (Var 0 sort.Int) (Var 1 sort.Int)) (Number (pos 64))) ∷ []); locals = []; items = ((Data (Var 0 sort.Int) (Var 2 sort.Val) (Var 4 sort.List)) ∷ (Data (Var 1 sort.Int) (Var 2 sort.Val) (Var 5 sort.List)) ∷ []) }) }) (record { temps = (name_p ∷ []); body = (c.Then (c.Return None) c.End) }) (s.Then 1 (s.Bounds 0 (Some 1) ([])) s.NoBlock (s.Then 2 (s.Return ([]) ([]) ([])) s.NoBlock s.End)) ≡ (RefusedAt 1 34 3)
unfolding computing
edges_56 = refl

edges_57 : body_verdict (record { predicates = ([]); specs = ((record { is_void = true; name = name_f; params = (name_p ∷ []); vars = ((name_s, sort.Int) ∷ (name_t, sort.Int) ∷ (name_v, sort.Val) ∷ (name_w, sort.Val) ∷ (name_k, sort.List) ∷ (name_m, sort.List) ∷ []); pre = (record { opened = []; facts = ((Rel relation.Le (Number (pos 1)) (Of unary.Len (Var 5 sort.List))) ∷ (Rel relation.Le (Number (pos 65)) (Of2 binary.Add (Var 0 sort.Int) (Var 1 sort.Int))) ∷ []); locals = []; items = ((Data (Var 0 sort.Int) (Var 2 sort.Val) (Var 4 sort.List)) ∷ (Data (Var 1 sort.Int) (Var 2 sort.Val) (Var 5 sort.List)) ∷ []) }); post = (record { opened = []; facts = ((Rel relation.Ne (Var 2 sort.Val) (Var 2 sort.Val)) ∷ []); locals = []; items = ((Data (Var 0 sort.Int) (Var 2 sort.Val) (Var 4 sort.List)) ∷ (Data (Var 1 sort.Int) (Var 2 sort.Val) (Var 5 sort.List)) ∷ []) }) }) ∷ []) }) (record { is_void = true; name = name_f; params = (name_p ∷ []); vars = ((name_s, sort.Int) ∷ (name_t, sort.Int) ∷ (name_v, sort.Val) ∷ (name_w, sort.Val) ∷ (name_k, sort.List) ∷ (name_m, sort.List) ∷ []); pre = (record { opened = []; facts = ((Rel relation.Le (Number (pos 1)) (Of unary.Len (Var 5 sort.List))) ∷ (Rel relation.Le (Number (pos 65)) (Of2 binary.Add (Var 0 sort.Int) (Var 1 sort.Int))) ∷ []); locals = []; items = ((Data (Var 0 sort.Int) (Var 2 sort.Val) (Var 4 sort.List)) ∷ (Data (Var 1 sort.Int) (Var 2 sort.Val) (Var 5 sort.List)) ∷ []) }); post = (record { opened = []; facts = ((Rel relation.Ne (Var 2 sort.Val) (Var 2 sort.Val)) ∷ []); locals = []; items = ((Data (Var 0 sort.Int) (Var 2 sort.Val) (Var 4 sort.List)) ∷ (Data (Var 1 sort.Int) (Var 2 sort.Val) (Var 5 sort.List)) ∷ []) }) }) (record { temps = (name_p ∷ []); body = (c.Then (c.Return None) c.End) }) (s.Then 1 (s.Apart 0 1 ([])) s.NoBlock (s.Then 2 (s.Return ([]) ([]) ([])) s.NoBlock s.End)) ≡ (RefusedAt 1 35 3)
unfolding computing
edges_57 = refl

edges_58 : body_verdict (record { predicates = ([]); specs = ((record { is_void = true; name = name_f; params = (name_p ∷ []); vars = ((name_s, sort.Int) ∷ (name_t, sort.Int) ∷ (name_v, sort.Val) ∷ (name_w, sort.Val) ∷ (name_k, sort.List) ∷ (name_m, sort.List) ∷ []); pre = (record { opened = []; facts = ((Rel relation.Le (Number (pos 1)) (Of unary.Len (Var 5 sort.List))) ∷ (Rel relation.Le (Number (pos 64)) (Of2 binary.Add (Var 0 sort.Int) (Var 1 sort.Int))) ∷ []); locals = []; items = ((Data (Var 0 sort.Int) (Var 2 sort.Val) (Var 4 sort.List)) ∷ (Data (Var 1 sort.Int) (Var 2 sort.Val) (Var 5 sort.List)) ∷ []) }); post = (record { opened = []; facts = ((Rel relation.Ne (Var 2 sort.Val) (Var 2 sort.Val)) ∷ []); locals = []; items = ((Data (Var 0 sort.Int) (Var 2 sort.Val) (Var 4 sort.List)) ∷ (Data (Var 1 sort.Int) (Var 2 sort.Val) (Var 5 sort.List)) ∷ []) }) }) ∷ []) }) (record { is_void = true; name = name_f; params = (name_p ∷ []); vars = ((name_s, sort.Int) ∷ (name_t, sort.Int) ∷ (name_v, sort.Val) ∷ (name_w, sort.Val) ∷ (name_k, sort.List) ∷ (name_m, sort.List) ∷ []); pre = (record { opened = []; facts = ((Rel relation.Le (Number (pos 1)) (Of unary.Len (Var 5 sort.List))) ∷ (Rel relation.Le (Number (pos 64)) (Of2 binary.Add (Var 0 sort.Int) (Var 1 sort.Int))) ∷ []); locals = []; items = ((Data (Var 0 sort.Int) (Var 2 sort.Val) (Var 4 sort.List)) ∷ (Data (Var 1 sort.Int) (Var 2 sort.Val) (Var 5 sort.List)) ∷ []) }); post = (record { opened = []; facts = ((Rel relation.Ne (Var 2 sort.Val) (Var 2 sort.Val)) ∷ []); locals = []; items = ((Data (Var 0 sort.Int) (Var 2 sort.Val) (Var 4 sort.List)) ∷ (Data (Var 1 sort.Int) (Var 2 sort.Val) (Var 5 sort.List)) ∷ []) }) }) (record { temps = (name_p ∷ []); body = (c.Then (c.Return None) c.End) }) (s.Then 1 (s.Apart 0 1 ([])) s.NoBlock (s.Then 2 (s.Return ([]) ([]) ([])) s.NoBlock s.End)) ≡ (RefusedAt 1 35 3)
unfolding computing
edges_58 = refl

edges_59 : body_verdict (record { predicates = ([]); specs = ((record { is_void = true; name = name_f; params = (name_p ∷ []); vars = ((name_s, sort.Int) ∷ (name_t, sort.Int) ∷ (name_v, sort.Val) ∷ (name_w, sort.Val) ∷ (name_k, sort.List) ∷ (name_m, sort.List) ∷ []); pre = (record { opened = []; facts = ((Rel relation.Eq (Of unary.Len (Var 4 sort.List)) (Of unary.Len (Var 5 sort.List))) ∷ []); locals = []; items = ((Data (Var 0 sort.Int) (Var 2 sort.Val) (Var 4 sort.List)) ∷ (Data (Var 1 sort.Int) (Var 2 sort.Val) (Var 5 sort.List)) ∷ []) }); post = (record { opened = []; facts = ((Rel relation.Eq (Var 4 sort.List) (Var 5 sort.List)) ∷ []); locals = []; items = ((Data (Var 0 sort.Int) (Var 2 sort.Val) (Var 4 sort.List)) ∷ (Data (Var 1 sort.Int) (Var 2 sort.Val) (Var 5 sort.List)) ∷ []) }) }) ∷ []) }) (record { is_void = true; name = name_f; params = (name_p ∷ []); vars = ((name_s, sort.Int) ∷ (name_t, sort.Int) ∷ (name_v, sort.Val) ∷ (name_w, sort.Val) ∷ (name_k, sort.List) ∷ (name_m, sort.List) ∷ []); pre = (record { opened = []; facts = ((Rel relation.Eq (Of unary.Len (Var 4 sort.List)) (Of unary.Len (Var 5 sort.List))) ∷ []); locals = []; items = ((Data (Var 0 sort.Int) (Var 2 sort.Val) (Var 4 sort.List)) ∷ (Data (Var 1 sort.Int) (Var 2 sort.Val) (Var 5 sort.List)) ∷ []) }); post = (record { opened = []; facts = ((Rel relation.Eq (Var 4 sort.List) (Var 5 sort.List)) ∷ []); locals = []; items = ((Data (Var 0 sort.Int) (Var 2 sort.Val) (Var 4 sort.List)) ∷ (Data (Var 1 sort.Int) (Var 2 sort.Val) (Var 5 sort.List)) ∷ []) }) }) (record { temps = (name_p ∷ []); body = (c.Then (c.Return None) c.End) }) (s.Then 1 (s.Agree 0 1 ([])) s.NoBlock (s.Then 2 (s.Return ([]) ([]) ([])) s.NoBlock s.End)) ≡ Accepted
unfolding computing
edges_59 = refl

edges_60 : body_verdict (record { predicates = ([]); specs = ((record { is_void = true; name = name_f; params = (name_p ∷ []); vars = ((name_s, sort.Int) ∷ (name_t, sort.Int) ∷ (name_v, sort.Val) ∷ (name_w, sort.Val) ∷ (name_k, sort.List) ∷ (name_m, sort.List) ∷ []); pre = (record { opened = []; facts = ((Rel relation.Eq (Of unary.Len (Var 5 sort.List)) (Of unary.Len (Var 4 sort.List))) ∷ []); locals = []; items = ((Data (Var 0 sort.Int) (Var 2 sort.Val) (Var 4 sort.List)) ∷ (Data (Var 1 sort.Int) (Var 2 sort.Val) (Var 5 sort.List)) ∷ []) }); post = (record { opened = []; facts = ((Rel relation.Eq (Var 4 sort.List) (Var 5 sort.List)) ∷ []); locals = []; items = ((Data (Var 0 sort.Int) (Var 2 sort.Val) (Var 4 sort.List)) ∷ (Data (Var 1 sort.Int) (Var 2 sort.Val) (Var 5 sort.List)) ∷ []) }) }) ∷ []) }) (record { is_void = true; name = name_f; params = (name_p ∷ []); vars = ((name_s, sort.Int) ∷ (name_t, sort.Int) ∷ (name_v, sort.Val) ∷ (name_w, sort.Val) ∷ (name_k, sort.List) ∷ (name_m, sort.List) ∷ []); pre = (record { opened = []; facts = ((Rel relation.Eq (Of unary.Len (Var 5 sort.List)) (Of unary.Len (Var 4 sort.List))) ∷ []); locals = []; items = ((Data (Var 0 sort.Int) (Var 2 sort.Val) (Var 4 sort.List)) ∷ (Data (Var 1 sort.Int) (Var 2 sort.Val) (Var 5 sort.List)) ∷ []) }); post = (record { opened = []; facts = ((Rel relation.Eq (Var 4 sort.List) (Var 5 sort.List)) ∷ []); locals = []; items = ((Data (Var 0 sort.Int) (Var 2 sort.Val) (Var 4 sort.List)) ∷ (Data (Var 1 sort.Int) (Var 2 sort.Val) (Var 5 sort.List)) ∷ []) }) }) (record { temps = (name_p ∷ []); body = (c.Then (c.Return None) c.End) }) (s.Then 1 (s.Agree 0 1 ([])) s.NoBlock (s.Then 2 (s.Return ([]) ([]) ([])) s.NoBlock s.End)) ≡ Accepted
unfolding computing
edges_60 = refl

edges_61 : body_verdict (record { predicates = ([]); specs = ((record { is_void = true; name = name_f; params = (name_p ∷ []); vars = ((name_s, sort.Int) ∷ (name_t, sort.Int) ∷ (name_v, sort.Val) ∷ (name_w, sort.Val) ∷ (name_k, sort.List) ∷ (name_m, sort.List) ∷ []); pre = (record { opened = []; facts = ([]); locals = []; items = ((Data (Var 0 sort.Int) (Var 2 sort.Val) (Var 4 sort.List)) ∷ (Data (Var 1 sort.Int) (Var 2 sort.Val) (Var 5 sort.List)) ∷ []) }); post = (record { opened = []; facts = ((Rel relation.Eq (Var 4 sort.List) (Var 5 sort.List)) ∷ []); locals = []; items = ((Data (Var 0 sort.Int) (Var 2 sort.Val) (Var 4 sort.List)) ∷ (Data (Var 1 sort.Int) (Var 2 sort.Val) (Var 5 sort.List)) ∷ []) }) }) ∷ []) }) (record { is_void = true; name = name_f; params = (name_p ∷ []); vars = ((name_s, sort.Int) ∷ (name_t, sort.Int) ∷ (name_v, sort.Val) ∷ (name_w, sort.Val) ∷ (name_k, sort.List) ∷ (name_m, sort.List) ∷ []); pre = (record { opened = []; facts = ([]); locals = []; items = ((Data (Var 0 sort.Int) (Var 2 sort.Val) (Var 4 sort.List)) ∷ (Data (Var 1 sort.Int) (Var 2 sort.Val) (Var 5 sort.List)) ∷ []) }); post = (record { opened = []; facts = ((Rel relation.Eq (Var 4 sort.List) (Var 5 sort.List)) ∷ []); locals = []; items = ((Data (Var 0 sort.Int) (Var 2 sort.Val) (Var 4 sort.List)) ∷ (Data (Var 1 sort.Int) (Var 2 sort.Val) (Var 5 sort.List)) ∷ []) }) }) (record { temps = (name_p ∷ []); body = (c.Then (c.Return None) c.End) }) (s.Then 1 (s.Agree 0 1 ([])) s.NoBlock (s.Then 2 (s.Return ([]) ([]) ([])) s.NoBlock s.End)) ≡ (RefusedAt 1 33 3)
unfolding computing
edges_61 = refl

edges_62 : body_verdict (record { predicates = ([]); specs = ((record { is_void = true; name = name_f; params = (name_p ∷ []); vars = ((name_s, sort.Int) ∷ (name_t, sort.Int) ∷ (name_v, sort.Val) ∷ (name_w, sort.Val) ∷ (name_k, sort.List) ∷ (name_m, sort.List) ∷ []); pre = (record { opened = []; facts = ((Rel relation.Le (Of2 binary.Add (Var 0 sort.Int) (Var 1 sort.Int)) (Number (pos 64))) ∷ []); locals = []; items = ((Data (Var 0 sort.Int) (Var 2 sort.Val) (Var 4 sort.List)) ∷ (Data (Var 1 sort.Int) (Var 2 sort.Val) (Var 4 sort.List)) ∷ []) }); post = (record { opened = []; facts = ([]); locals = []; items = ((Data (Of2 binary.Add (Var 0 sort.Int) (Var 1 sort.Int)) (Var 2 sort.Val) (Var 4 sort.List)) ∷ []) }) }) ∷ []) }) (record { is_void = true; name = name_f; params = (name_p ∷ []); vars = ((name_s, sort.Int) ∷ (name_t, sort.Int) ∷ (name_v, sort.Val) ∷ (name_w, sort.Val) ∷ (name_k, sort.List) ∷ (name_m, sort.List) ∷ []); pre = (record { opened = []; facts = ((Rel relation.Le (Of2 binary.Add (Var 0 sort.Int) (Var 1 sort.Int)) (Number (pos 64))) ∷ []); locals = []; items = ((Data (Var 0 sort.Int) (Var 2 sort.Val) (Var 4 sort.List)) ∷ (Data (Var 1 sort.Int) (Var 2 sort.Val) (Var 4 sort.List)) ∷ []) }); post = (record { opened = []; facts = ([]); locals = []; items = ((Data (Of2 binary.Add (Var 0 sort.Int) (Var 1 sort.Int)) (Var 2 sort.Val) (Var 4 sort.List)) ∷ []) }) }) (record { temps = (name_p ∷ []); body = (c.Then (c.Return None) c.End) }) (s.Then 1 (s.Unshare 0 1 ([])) s.NoBlock (s.Then 2 (s.Return ([]) ([]) ([])) s.NoBlock s.End)) ≡ Accepted
unfolding computing
edges_62 = refl

edges_63 : body_verdict (record { predicates = ([]); specs = ((record { is_void = true; name = name_f; params = (name_p ∷ []); vars = ((name_s, sort.Int) ∷ (name_t, sort.Int) ∷ (name_v, sort.Val) ∷ (name_w, sort.Val) ∷ (name_k, sort.List) ∷ (name_m, sort.List) ∷ []); pre = (record { opened = []; facts = ((Rel relation.Le (Of2 binary.Add (Var 0 sort.Int) (Var 1 sort.Int)) (Number (pos 65))) ∷ []); locals = []; items = ((Data (Var 0 sort.Int) (Var 2 sort.Val) (Var 4 sort.List)) ∷ (Data (Var 1 sort.Int) (Var 2 sort.Val) (Var 4 sort.List)) ∷ []) }); post = (record { opened = []; facts = ([]); locals = []; items = ((Data (Of2 binary.Add (Var 0 sort.Int) (Var 1 sort.Int)) (Var 2 sort.Val) (Var 4 sort.List)) ∷ []) }) }) ∷ []) }) (record { is_void = true; name = name_f; params = (name_p ∷ []); vars = ((name_s, sort.Int) ∷ (name_t, sort.Int) ∷ (name_v, sort.Val) ∷ (name_w, sort.Val) ∷ (name_k, sort.List) ∷ (name_m, sort.List) ∷ []); pre = (record { opened = []; facts = ((Rel relation.Le (Of2 binary.Add (Var 0 sort.Int) (Var 1 sort.Int)) (Number (pos 65))) ∷ []); locals = []; items = ((Data (Var 0 sort.Int) (Var 2 sort.Val) (Var 4 sort.List)) ∷ (Data (Var 1 sort.Int) (Var 2 sort.Val) (Var 4 sort.List)) ∷ []) }); post = (record { opened = []; facts = ([]); locals = []; items = ((Data (Of2 binary.Add (Var 0 sort.Int) (Var 1 sort.Int)) (Var 2 sort.Val) (Var 4 sort.List)) ∷ []) }) }) (record { temps = (name_p ∷ []); body = (c.Then (c.Return None) c.End) }) (s.Then 1 (s.Unshare 0 1 ([])) s.NoBlock (s.Then 2 (s.Return ([]) ([]) ([])) s.NoBlock s.End)) ≡ (RefusedAt 1 32 3)
unfolding computing
edges_63 = refl

edges_64 : body_verdict (record { predicates = ([]); specs = ((record { is_void = true; name = name_f; params = (name_p ∷ []); vars = ((name_s, sort.Int) ∷ (name_t, sort.Int) ∷ (name_v, sort.Val) ∷ (name_w, sort.Val) ∷ (name_k, sort.List) ∷ (name_m, sort.List) ∷ []); pre = (record { opened = []; facts = ((Rel relation.Le (Number (pos 1)) (Of unary.Len (Var 4 sort.List))) ∷ (Rel relation.Le (Number (pos 1)) (Of unary.Len (Var 5 sort.List))) ∷ []); locals = []; items = ((Data (Var 0 sort.Int) (Var 2 sort.Val) (Var 4 sort.List)) ∷ (Data (Var 1 sort.Int) (Var 3 sort.Val) (Var 5 sort.List)) ∷ []) }); post = (record { opened = []; facts = ((Rel relation.Le (Of2 binary.Add (Var 0 sort.Int) (Var 1 sort.Int)) (Number (pos 64))) ∷ []); locals = []; items = ((Data (Var 0 sort.Int) (Var 2 sort.Val) (Var 4 sort.List)) ∷ (Data (Var 1 sort.Int) (Var 3 sort.Val) (Var 5 sort.List)) ∷ []) }) }) ∷ []) }) (record { is_void = true; name = name_f; params = (name_p ∷ []); vars = ((name_s, sort.Int) ∷ (name_t, sort.Int) ∷ (name_v, sort.Val) ∷ (name_w, sort.Val) ∷ (name_k, sort.List) ∷ (name_m, sort.List) ∷ []); pre = (record { opened = []; facts = ((Rel relation.Le (Number (pos 1)) (Of unary.Len (Var 4 sort.List))) ∷ (Rel relation.Le (Number (pos 1)) (Of unary.Len (Var 5 sort.List))) ∷ []); locals = []; items = ((Data (Var 0 sort.Int) (Var 2 sort.Val) (Var 4 sort.List)) ∷ (Data (Var 1 sort.Int) (Var 3 sort.Val) (Var 5 sort.List)) ∷ []) }); post = (record { opened = []; facts = ((Rel relation.Le (Of2 binary.Add (Var 0 sort.Int) (Var 1 sort.Int)) (Number (pos 64))) ∷ []); locals = []; items = ((Data (Var 0 sort.Int) (Var 2 sort.Val) (Var 4 sort.List)) ∷ (Data (Var 1 sort.Int) (Var 3 sort.Val) (Var 5 sort.List)) ∷ []) }) }) (record { temps = (name_p ∷ []); body = (c.Then (c.Return None) c.End) }) (s.Then 1 (s.Bounds 0 (Some 1) ([])) s.NoBlock (s.Then 2 (s.Return ([]) ([]) ([])) s.NoBlock s.End)) ≡ (RefusedAt 1 34 1)
unfolding computing
edges_64 = refl

edges_65 : body_verdict (record { predicates = ([]); specs = ((record { is_void = true; name = name_f; params = (name_p ∷ []); vars = ((name_s, sort.Int) ∷ (name_t, sort.Int) ∷ (name_v, sort.Val) ∷ (name_w, sort.Val) ∷ (name_k, sort.List) ∷ (name_m, sort.List) ∷ []); pre = (record { opened = []; facts = ((Rel relation.Le (Number (pos 1)) (Of unary.Len (Var 4 sort.List))) ∷ (Rel relation.Le (Number (pos 1)) (Of unary.Len (Var 5 sort.List))) ∷ (Rel relation.Le (Number (pos 65)) (Of2 binary.Add (Var 0 sort.Int) (Var 1 sort.Int))) ∷ []); locals = []; items = ((Data (Var 0 sort.Int) (Var 2 sort.Val) (Var 4 sort.List)) ∷ (Data (Var 1 sort.Int) (Var 3 sort.Val) (Var 5 sort.List)) ∷ []) }); post = (record { opened = []; facts = ((Rel relation.Ne (Var 2 sort.Val) (Var 3 sort.Val)) ∷ []); locals = []; items = ((Data (Var 0 sort.Int) (Var 2 sort.Val) (Var 4 sort.List)) ∷ (Data (Var 1 sort.Int) (Var 3 sort.Val) (Var 5 sort.List)) ∷ []) }) }) ∷ []) }) (record { is_void = true; name = name_f; params = (name_p ∷ []); vars = ((name_s, sort.Int) ∷ (name_t, sort.Int) ∷ (name_v, sort.Val) ∷ (name_w, sort.Val) ∷ (name_k, sort.List) ∷ (name_m, sort.List) ∷ []); pre = (record { opened = []; facts = ((Rel relation.Le (Number (pos 1)) (Of unary.Len (Var 4 sort.List))) ∷ (Rel relation.Le (Number (pos 1)) (Of unary.Len (Var 5 sort.List))) ∷ (Rel relation.Le (Number (pos 65)) (Of2 binary.Add (Var 0 sort.Int) (Var 1 sort.Int))) ∷ []); locals = []; items = ((Data (Var 0 sort.Int) (Var 2 sort.Val) (Var 4 sort.List)) ∷ (Data (Var 1 sort.Int) (Var 3 sort.Val) (Var 5 sort.List)) ∷ []) }); post = (record { opened = []; facts = ((Rel relation.Ne (Var 2 sort.Val) (Var 3 sort.Val)) ∷ []); locals = []; items = ((Data (Var 0 sort.Int) (Var 2 sort.Val) (Var 4 sort.List)) ∷ (Data (Var 1 sort.Int) (Var 3 sort.Val) (Var 5 sort.List)) ∷ []) }) }) (record { temps = (name_p ∷ []); body = (c.Then (c.Return None) c.End) }) (s.Then 1 (s.Apart 0 1 ([])) s.NoBlock (s.Then 2 (s.Return ([]) ([]) ([])) s.NoBlock s.End)) ≡ Accepted
unfolding computing
edges_65 = refl

edges_66 : body_verdict (record { predicates = ([]); specs = ((record { is_void = true; name = name_f; params = (name_p ∷ []); vars = ((name_s, sort.Int) ∷ (name_t, sort.Int) ∷ (name_v, sort.Val) ∷ (name_w, sort.Val) ∷ (name_k, sort.List) ∷ (name_m, sort.List) ∷ []); pre = (record { opened = []; facts = ((Rel relation.Le (Number (pos 1)) (Of unary.Len (Var 4 sort.List))) ∷ (Rel relation.Le (Number (pos 1)) (Of unary.Len (Var 5 sort.List))) ∷ (Rel relation.Le (Number (pos 64)) (Of2 binary.Add (Var 0 sort.Int) (Var 1 sort.Int))) ∷ []); locals = []; items = ((Data (Var 0 sort.Int) (Var 2 sort.Val) (Var 4 sort.List)) ∷ (Data (Var 1 sort.Int) (Var 3 sort.Val) (Var 5 sort.List)) ∷ []) }); post = (record { opened = []; facts = ((Rel relation.Ne (Var 2 sort.Val) (Var 3 sort.Val)) ∷ []); locals = []; items = ((Data (Var 0 sort.Int) (Var 2 sort.Val) (Var 4 sort.List)) ∷ (Data (Var 1 sort.Int) (Var 3 sort.Val) (Var 5 sort.List)) ∷ []) }) }) ∷ []) }) (record { is_void = true; name = name_f; params = (name_p ∷ []); vars = ((name_s, sort.Int) ∷ (name_t, sort.Int) ∷ (name_v, sort.Val) ∷ (name_w, sort.Val) ∷ (name_k, sort.List) ∷ (name_m, sort.List) ∷ []); pre = (record { opened = []; facts = ((Rel relation.Le (Number (pos 1)) (Of unary.Len (Var 4 sort.List))) ∷ (Rel relation.Le (Number (pos 1)) (Of unary.Len (Var 5 sort.List))) ∷ (Rel relation.Le (Number (pos 64)) (Of2 binary.Add (Var 0 sort.Int) (Var 1 sort.Int))) ∷ []); locals = []; items = ((Data (Var 0 sort.Int) (Var 2 sort.Val) (Var 4 sort.List)) ∷ (Data (Var 1 sort.Int) (Var 3 sort.Val) (Var 5 sort.List)) ∷ []) }); post = (record { opened = []; facts = ((Rel relation.Ne (Var 2 sort.Val) (Var 3 sort.Val)) ∷ []); locals = []; items = ((Data (Var 0 sort.Int) (Var 2 sort.Val) (Var 4 sort.List)) ∷ (Data (Var 1 sort.Int) (Var 3 sort.Val) (Var 5 sort.List)) ∷ []) }) }) (record { temps = (name_p ∷ []); body = (c.Then (c.Return None) c.End) }) (s.Then 1 (s.Apart 0 1 ([])) s.NoBlock (s.Then 2 (s.Return ([]) ([]) ([])) s.NoBlock s.End)) ≡ (RefusedAt 1 35 3)
unfolding computing
edges_66 = refl

edges_67 : body_verdict (record { predicates = ([]); specs = ((record { is_void = true; name = name_f; params = (name_p ∷ []); vars = ((name_s, sort.Int) ∷ (name_t, sort.Int) ∷ (name_v, sort.Val) ∷ (name_w, sort.Val) ∷ (name_k, sort.List) ∷ (name_m, sort.List) ∷ []); pre = (record { opened = []; facts = ((Rel relation.Le (Number (pos 1)) (Of unary.Len (Var 4 sort.List))) ∷ []); locals = []; items = ((Data (Var 0 sort.Int) (Var 2 sort.Val) (Var 4 sort.List)) ∷ (Data (Var 1 sort.Int) (Var 3 sort.Val) (Var 5 sort.List)) ∷ []) }); post = (record { opened = []; facts = ((Rel relation.Le (Of2 binary.Add (Var 0 sort.Int) (Var 1 sort.Int)) (Number (pos 64))) ∷ []); locals = []; items = ((Data (Var 0 sort.Int) (Var 2 sort.Val) (Var 4 sort.List)) ∷ (Data (Var 1 sort.Int) (Var 3 sort.Val) (Var 5 sort.List)) ∷ []) }) }) ∷ []) }) (record { is_void = true; name = name_f; params = (name_p ∷ []); vars = ((name_s, sort.Int) ∷ (name_t, sort.Int) ∷ (name_v, sort.Val) ∷ (name_w, sort.Val) ∷ (name_k, sort.List) ∷ (name_m, sort.List) ∷ []); pre = (record { opened = []; facts = ((Rel relation.Le (Number (pos 1)) (Of unary.Len (Var 4 sort.List))) ∷ []); locals = []; items = ((Data (Var 0 sort.Int) (Var 2 sort.Val) (Var 4 sort.List)) ∷ (Data (Var 1 sort.Int) (Var 3 sort.Val) (Var 5 sort.List)) ∷ []) }); post = (record { opened = []; facts = ((Rel relation.Le (Of2 binary.Add (Var 0 sort.Int) (Var 1 sort.Int)) (Number (pos 64))) ∷ []); locals = []; items = ((Data (Var 0 sort.Int) (Var 2 sort.Val) (Var 4 sort.List)) ∷ (Data (Var 1 sort.Int) (Var 3 sort.Val) (Var 5 sort.List)) ∷ []) }) }) (record { temps = (name_p ∷ []); body = (c.Then (c.Return None) c.End) }) (s.Then 1 (s.Bounds 0 (Some 1) ([])) s.NoBlock (s.Then 2 (s.Return ([]) ([]) ([])) s.NoBlock s.End)) ≡ (RefusedAt 1 34 1)
unfolding computing
edges_67 = refl

edges_68 : body_verdict (record { predicates = ([]); specs = ((record { is_void = true; name = name_f; params = (name_p ∷ []); vars = ((name_s, sort.Int) ∷ (name_t, sort.Int) ∷ (name_v, sort.Val) ∷ (name_w, sort.Val) ∷ (name_k, sort.List) ∷ (name_m, sort.List) ∷ []); pre = (record { opened = []; facts = ((Rel relation.Le (Number (pos 1)) (Of unary.Len (Var 4 sort.List))) ∷ (Rel relation.Le (Number (pos 65)) (Of2 binary.Add (Var 0 sort.Int) (Var 1 sort.Int))) ∷ []); locals = []; items = ((Data (Var 0 sort.Int) (Var 2 sort.Val) (Var 4 sort.List)) ∷ (Data (Var 1 sort.Int) (Var 3 sort.Val) (Var 5 sort.List)) ∷ []) }); post = (record { opened = []; facts = ((Rel relation.Ne (Var 2 sort.Val) (Var 3 sort.Val)) ∷ []); locals = []; items = ((Data (Var 0 sort.Int) (Var 2 sort.Val) (Var 4 sort.List)) ∷ (Data (Var 1 sort.Int) (Var 3 sort.Val) (Var 5 sort.List)) ∷ []) }) }) ∷ []) }) (record { is_void = true; name = name_f; params = (name_p ∷ []); vars = ((name_s, sort.Int) ∷ (name_t, sort.Int) ∷ (name_v, sort.Val) ∷ (name_w, sort.Val) ∷ (name_k, sort.List) ∷ (name_m, sort.List) ∷ []); pre = (record { opened = []; facts = ((Rel relation.Le (Number (pos 1)) (Of unary.Len (Var 4 sort.List))) ∷ (Rel relation.Le (Number (pos 65)) (Of2 binary.Add (Var 0 sort.Int) (Var 1 sort.Int))) ∷ []); locals = []; items = ((Data (Var 0 sort.Int) (Var 2 sort.Val) (Var 4 sort.List)) ∷ (Data (Var 1 sort.Int) (Var 3 sort.Val) (Var 5 sort.List)) ∷ []) }); post = (record { opened = []; facts = ((Rel relation.Ne (Var 2 sort.Val) (Var 3 sort.Val)) ∷ []); locals = []; items = ((Data (Var 0 sort.Int) (Var 2 sort.Val) (Var 4 sort.List)) ∷ (Data (Var 1 sort.Int) (Var 3 sort.Val) (Var 5 sort.List)) ∷ []) }) }) (record { temps = (name_p ∷ []); body = (c.Then (c.Return None) c.End) }) (s.Then 1 (s.Apart 0 1 ([])) s.NoBlock (s.Then 2 (s.Return ([]) ([]) ([])) s.NoBlock s.End)) ≡ (RefusedAt 1 35 3)
unfolding computing
edges_68 = refl

edges_69 : body_verdict (record { predicates = ([]); specs = ((record { is_void = true; name = name_f; params = (name_p ∷ []); vars = ((name_s, sort.Int) ∷ (name_t, sort.Int) ∷ (name_v, sort.Val) ∷ (name_w, sort.Val) ∷ (name_k, sort.List) ∷ (name_m, sort.List) ∷ []); pre = (record { opened = []; facts = ((Rel relation.Le (Number (pos 1)) (Of unary.Len (Var 4 sort.List))) ∷ (Rel relation.Le (Number (pos 64)) (Of2 binary.Add (Var 0 sort.Int) (Var 1 sort.Int))) ∷ []); locals = []; items = ((Data (Var 0 sort.Int) (Var 2 sort.Val) (Var 4 sort.List)) ∷ (Data (Var 1 sort.Int) (Var 3 sort.Val) (Var 5 sort.List)) ∷ []) }); post = (record { opened = []; facts = ((Rel relation.Ne (Var 2 sort.Val) (Var 3 sort.Val)) ∷ []); locals = []; items = ((Data (Var 0 sort.Int) (Var 2 sort.Val) (Var 4 sort.List)) ∷ (Data (Var 1 sort.Int) (Var 3 sort.Val) (Var 5 sort.List)) ∷ []) }) }) ∷ []) }) (record { is_void = true; name = name_f; params = (name_p ∷ []); vars = ((name_s, sort.Int) ∷ (name_t, sort.Int) ∷ (name_v, sort.Val) ∷ (name_w, sort.Val) ∷ (name_k, sort.List) ∷ (name_m, sort.List) ∷ []); pre = (record { opened = []; facts = ((Rel relation.Le (Number (pos 1)) (Of unary.Len (Var 4 sort.List))) ∷ (Rel relation.Le (Number (pos 64)) (Of2 binary.Add (Var 0 sort.Int) (Var 1 sort.Int))) ∷ []); locals = []; items = ((Data (Var 0 sort.Int) (Var 2 sort.Val) (Var 4 sort.List)) ∷ (Data (Var 1 sort.Int) (Var 3 sort.Val) (Var 5 sort.List)) ∷ []) }); post = (record { opened = []; facts = ((Rel relation.Ne (Var 2 sort.Val) (Var 3 sort.Val)) ∷ []); locals = []; items = ((Data (Var 0 sort.Int) (Var 2 sort.Val) (Var 4 sort.List)) ∷ (Data (Var 1 sort.Int) (Var 3 sort.Val) (Var 5 sort.List)) ∷ []) }) }) (record { temps = (name_p ∷ []); body = (c.Then (c.Return None) c.End) }) (s.Then 1 (s.Apart 0 1 ([])) s.NoBlock (s.Then 2 (s.Return ([]) ([]) ([])) s.NoBlock s.End)) ≡ (RefusedAt 1 35 3)
unfolding computing
edges_69 = refl

edges_70 : body_verdict (record { predicates = ([]); specs = ((record { is_void = true; name = name_f; params = (name_p ∷ []); vars = ((name_s, sort.Int) ∷ (name_t, sort.Int) ∷ (name_v, sort.Val) ∷ (name_w, sort.Val) ∷ (name_k, sort.List) ∷ (name_m, sort.List) ∷ []); pre = (record { opened = []; facts = ((Rel relation.Le (Number (pos 1)) (Of unary.Len (Var 5 sort.List))) ∷ []); locals = []; items = ((Data (Var 0 sort.Int) (Var 2 sort.Val) (Var 4 sort.List)) ∷ (Data (Var 1 sort.Int) (Var 3 sort.Val) (Var 5 sort.List)) ∷ []) }); post = (record { opened = []; facts = ((Rel relation.Le (Of2 binary.Add (Var 0 sort.Int) (Var 1 sort.Int)) (Number (pos 64))) ∷ []); locals = []; items = ((Data (Var 0 sort.Int) (Var 2 sort.Val) (Var 4 sort.List)) ∷ (Data (Var 1 sort.Int) (Var 3 sort.Val) (Var 5 sort.List)) ∷ []) }) }) ∷ []) }) (record { is_void = true; name = name_f; params = (name_p ∷ []); vars = ((name_s, sort.Int) ∷ (name_t, sort.Int) ∷ (name_v, sort.Val) ∷ (name_w, sort.Val) ∷ (name_k, sort.List) ∷ (name_m, sort.List) ∷ []); pre = (record { opened = []; facts = ((Rel relation.Le (Number (pos 1)) (Of unary.Len (Var 5 sort.List))) ∷ []); locals = []; items = ((Data (Var 0 sort.Int) (Var 2 sort.Val) (Var 4 sort.List)) ∷ (Data (Var 1 sort.Int) (Var 3 sort.Val) (Var 5 sort.List)) ∷ []) }); post = (record { opened = []; facts = ((Rel relation.Le (Of2 binary.Add (Var 0 sort.Int) (Var 1 sort.Int)) (Number (pos 64))) ∷ []); locals = []; items = ((Data (Var 0 sort.Int) (Var 2 sort.Val) (Var 4 sort.List)) ∷ (Data (Var 1 sort.Int) (Var 3 sort.Val) (Var 5 sort.List)) ∷ []) }) }) (record { temps = (name_p ∷ []); body = (c.Then (c.Return None) c.End) }) (s.Then 1 (s.Bounds 0 (Some 1) ([])) s.NoBlock (s.Then 2 (s.Return ([]) ([]) ([])) s.NoBlock s.End)) ≡ (RefusedAt 1 34 1)
unfolding computing
edges_70 = refl

edges_71 : body_verdict (record { predicates = ([]); specs = ((record { is_void = true; name = name_f; params = (name_p ∷ []); vars = ((name_s, sort.Int) ∷ (name_t, sort.Int) ∷ (name_v, sort.Val) ∷ (name_w, sort.Val) ∷ (name_k, sort.List) ∷ (name_m, sort.List) ∷ []); pre = (record { opened = []; facts = ((Rel relation.Le (Number (pos 1)) (Of unary.Len (Var 5 sort.List))) ∷ (Rel relation.Le (Number (pos 65)) (Of2 binary.Add (Var 0 sort.Int) (Var 1 sort.Int))) ∷ []); locals = []; items = ((Data (Var 0 sort.Int) (Var 2 sort.Val) (Var 4 sort.List)) ∷ (Data (Var 1 sort.Int) (Var 3 sort.Val) (Var 5 sort.List)) ∷ []) }); post = (record { opened = []; facts = ((Rel relation.Ne (Var 2 sort.Val) (Var 3 sort.Val)) ∷ []); locals = []; items = ((Data (Var 0 sort.Int) (Var 2 sort.Val) (Var 4 sort.List)) ∷ (Data (Var 1 sort.Int) (Var 3 sort.Val) (Var 5 sort.List)) ∷ []) }) }) ∷ []) }) (record { is_void = true; name = name_f; params = (name_p ∷ []); vars = ((name_s, sort.Int) ∷ (name_t, sort.Int) ∷ (name_v, sort.Val) ∷ (name_w, sort.Val) ∷ (name_k, sort.List) ∷ (name_m, sort.List) ∷ []); pre = (record { opened = []; facts = ((Rel relation.Le (Number (pos 1)) (Of unary.Len (Var 5 sort.List))) ∷ (Rel relation.Le (Number (pos 65)) (Of2 binary.Add (Var 0 sort.Int) (Var 1 sort.Int))) ∷ []); locals = []; items = ((Data (Var 0 sort.Int) (Var 2 sort.Val) (Var 4 sort.List)) ∷ (Data (Var 1 sort.Int) (Var 3 sort.Val) (Var 5 sort.List)) ∷ []) }); post = (record { opened = []; facts = ((Rel relation.Ne (Var 2 sort.Val) (Var 3 sort.Val)) ∷ []); locals = []; items = ((Data (Var 0 sort.Int) (Var 2 sort.Val) (Var 4 sort.List)) ∷ (Data (Var 1 sort.Int) (Var 3 sort.Val) (Var 5 sort.List)) ∷ []) }) }) (record { temps = (name_p ∷ []); body = (c.Then (c.Return None) c.End) }) (s.Then 1 (s.Apart 0 1 ([])) s.NoBlock (s.Then 2 (s.Return ([]) ([]) ([])) s.NoBlock s.End)) ≡ (RefusedAt 1 35 3)
unfolding computing
edges_71 = refl

edges_72 : body_verdict (record { predicates = ([]); specs = ((record { is_void = true; name = name_f; params = (name_p ∷ []); vars = ((name_s, sort.Int) ∷ (name_t, sort.Int) ∷ (name_v, sort.Val) ∷ (name_w, sort.Val) ∷ (name_k, sort.List) ∷ (name_m, sort.List) ∷ []); pre = (record { opened = []; facts = ((Rel relation.Le (Number (pos 1)) (Of unary.Len (Var 5 sort.List))) ∷ (Rel relation.Le (Number (pos 64)) (Of2 binary.Add (Var 0 sort.Int) (Var 1 sort.Int))) ∷ []); locals = []; items = ((Data (Var 0 sort.Int) (Var 2 sort.Val) (Var 4 sort.List)) ∷ (Data (Var 1 sort.Int) (Var 3 sort.Val) (Var 5 sort.List)) ∷ []) }); post = (record { opened = []; facts = ((Rel relation.Ne (Var 2 sort.Val) (Var 3 sort.Val)) ∷ []); locals = []; items = ((Data (Var 0 sort.Int) (Var 2 sort.Val) (Var 4 sort.List)) ∷ (Data (Var 1 sort.Int) (Var 3 sort.Val) (Var 5 sort.List)) ∷ []) }) }) ∷ []) }) (record { is_void = true; name = name_f; params = (name_p ∷ []); vars = ((name_s, sort.Int) ∷ (name_t, sort.Int) ∷ (name_v, sort.Val) ∷ (name_w, sort.Val) ∷ (name_k, sort.List) ∷ (name_m, sort.List) ∷ []); pre = (record { opened = []; facts = ((Rel relation.Le (Number (pos 1)) (Of unary.Len (Var 5 sort.List))) ∷ (Rel relation.Le (Number (pos 64)) (Of2 binary.Add (Var 0 sort.Int) (Var 1 sort.Int))) ∷ []); locals = []; items = ((Data (Var 0 sort.Int) (Var 2 sort.Val) (Var 4 sort.List)) ∷ (Data (Var 1 sort.Int) (Var 3 sort.Val) (Var 5 sort.List)) ∷ []) }); post = (record { opened = []; facts = ((Rel relation.Ne (Var 2 sort.Val) (Var 3 sort.Val)) ∷ []); locals = []; items = ((Data (Var 0 sort.Int) (Var 2 sort.Val) (Var 4 sort.List)) ∷ (Data (Var 1 sort.Int) (Var 3 sort.Val) (Var 5 sort.List)) ∷ []) }) }) (record { temps = (name_p ∷ []); body = (c.Then (c.Return None) c.End) }) (s.Then 1 (s.Apart 0 1 ([])) s.NoBlock (s.Then 2 (s.Return ([]) ([]) ([])) s.NoBlock s.End)) ≡ (RefusedAt 1 35 3)
unfolding computing
edges_72 = refl

edges_73 : body_verdict (record { predicates = ([]); specs = ((record { is_void = true; name = name_f; params = (name_p ∷ []); vars = ((name_s, sort.Int) ∷ (name_t, sort.Int) ∷ (name_v, sort.Val) ∷ (name_w, sort.Val) ∷ (name_k, sort.List) ∷ (name_m, sort.List) ∷ []); pre = (record { opened = []; facts = ((Rel relation.Eq (Of unary.Len (Var 4 sort.List)) (Of unary.Len (Var 5 sort.List))) ∷ []); locals = []; items = ((Data (Var 0 sort.Int) (Var 2 sort.Val) (Var 4 sort.List)) ∷ (Data (Var 1 sort.Int) (Var 3 sort.Val) (Var 5 sort.List)) ∷ []) }); post = (record { opened = []; facts = ((Rel relation.Eq (Var 4 sort.List) (Var 5 sort.List)) ∷ []); locals = []; items = ((Data (Var 0 sort.Int) (Var 2 sort.Val) (Var 4 sort.List)) ∷ (Data (Var 1 sort.Int) (Var 3 sort.Val) (Var 5 sort.List)) ∷ []) }) }) ∷ []) }) (record { is_void = true; name = name_f; params = (name_p ∷ []); vars = ((name_s, sort.Int) ∷ (name_t, sort.Int) ∷ (name_v, sort.Val) ∷ (name_w, sort.Val) ∷ (name_k, sort.List) ∷ (name_m, sort.List) ∷ []); pre = (record { opened = []; facts = ((Rel relation.Eq (Of unary.Len (Var 4 sort.List)) (Of unary.Len (Var 5 sort.List))) ∷ []); locals = []; items = ((Data (Var 0 sort.Int) (Var 2 sort.Val) (Var 4 sort.List)) ∷ (Data (Var 1 sort.Int) (Var 3 sort.Val) (Var 5 sort.List)) ∷ []) }); post = (record { opened = []; facts = ((Rel relation.Eq (Var 4 sort.List) (Var 5 sort.List)) ∷ []); locals = []; items = ((Data (Var 0 sort.Int) (Var 2 sort.Val) (Var 4 sort.List)) ∷ (Data (Var 1 sort.Int) (Var 3 sort.Val) (Var 5 sort.List)) ∷ []) }) }) (record { temps = (name_p ∷ []); body = (c.Then (c.Return None) c.End) }) (s.Then 1 (s.Agree 0 1 ([])) s.NoBlock (s.Then 2 (s.Return ([]) ([]) ([])) s.NoBlock s.End)) ≡ (RefusedAt 1 33 1)
unfolding computing
edges_73 = refl

edges_74 : body_verdict (record { predicates = ([]); specs = ((record { is_void = true; name = name_f; params = (name_p ∷ []); vars = ((name_s, sort.Int) ∷ (name_t, sort.Int) ∷ (name_v, sort.Val) ∷ (name_w, sort.Val) ∷ (name_k, sort.List) ∷ (name_m, sort.List) ∷ []); pre = (record { opened = []; facts = ((Rel relation.Eq (Of unary.Len (Var 5 sort.List)) (Of unary.Len (Var 4 sort.List))) ∷ []); locals = []; items = ((Data (Var 0 sort.Int) (Var 2 sort.Val) (Var 4 sort.List)) ∷ (Data (Var 1 sort.Int) (Var 3 sort.Val) (Var 5 sort.List)) ∷ []) }); post = (record { opened = []; facts = ((Rel relation.Eq (Var 4 sort.List) (Var 5 sort.List)) ∷ []); locals = []; items = ((Data (Var 0 sort.Int) (Var 2 sort.Val) (Var 4 sort.List)) ∷ (Data (Var 1 sort.Int) (Var 3 sort.Val) (Var 5 sort.List)) ∷ []) }) }) ∷ []) }) (record { is_void = true; name = name_f; params = (name_p ∷ []); vars = ((name_s, sort.Int) ∷ (name_t, sort.Int) ∷ (name_v, sort.Val) ∷ (name_w, sort.Val) ∷ (name_k, sort.List) ∷ (name_m, sort.List) ∷ []); pre = (record { opened = []; facts = ((Rel relation.Eq (Of unary.Len (Var 5 sort.List)) (Of unary.Len (Var 4 sort.List))) ∷ []); locals = []; items = ((Data (Var 0 sort.Int) (Var 2 sort.Val) (Var 4 sort.List)) ∷ (Data (Var 1 sort.Int) (Var 3 sort.Val) (Var 5 sort.List)) ∷ []) }); post = (record { opened = []; facts = ((Rel relation.Eq (Var 4 sort.List) (Var 5 sort.List)) ∷ []); locals = []; items = ((Data (Var 0 sort.Int) (Var 2 sort.Val) (Var 4 sort.List)) ∷ (Data (Var 1 sort.Int) (Var 3 sort.Val) (Var 5 sort.List)) ∷ []) }) }) (record { temps = (name_p ∷ []); body = (c.Then (c.Return None) c.End) }) (s.Then 1 (s.Agree 0 1 ([])) s.NoBlock (s.Then 2 (s.Return ([]) ([]) ([])) s.NoBlock s.End)) ≡ (RefusedAt 1 33 1)
unfolding computing
edges_74 = refl

edges_75 : body_verdict (record { predicates = ([]); specs = ((record { is_void = true; name = name_f; params = (name_p ∷ []); vars = ((name_s, sort.Int) ∷ (name_t, sort.Int) ∷ (name_v, sort.Val) ∷ (name_w, sort.Val) ∷ (name_k, sort.List) ∷ (name_m, sort.List) ∷ []); pre = (record { opened = []; facts = ([]); locals = []; items = ((Data (Var 0 sort.Int) (Var 2 sort.Val) (Var 4 sort.List)) ∷ (Data (Var 1 sort.Int) (Var 3 sort.Val) (Var 5 sort.List)) ∷ []) }); post = (record { opened = []; facts = ((Rel relation.Eq (Var 4 sort.List) (Var 5 sort.List)) ∷ []); locals = []; items = ((Data (Var 0 sort.Int) (Var 2 sort.Val) (Var 4 sort.List)) ∷ (Data (Var 1 sort.Int) (Var 3 sort.Val) (Var 5 sort.List)) ∷ []) }) }) ∷ []) }) (record { is_void = true; name = name_f; params = (name_p ∷ []); vars = ((name_s, sort.Int) ∷ (name_t, sort.Int) ∷ (name_v, sort.Val) ∷ (name_w, sort.Val) ∷ (name_k, sort.List) ∷ (name_m, sort.List) ∷ []); pre = (record { opened = []; facts = ([]); locals = []; items = ((Data (Var 0 sort.Int) (Var 2 sort.Val) (Var 4 sort.List)) ∷ (Data (Var 1 sort.Int) (Var 3 sort.Val) (Var 5 sort.List)) ∷ []) }); post = (record { opened = []; facts = ((Rel relation.Eq (Var 4 sort.List) (Var 5 sort.List)) ∷ []); locals = []; items = ((Data (Var 0 sort.Int) (Var 2 sort.Val) (Var 4 sort.List)) ∷ (Data (Var 1 sort.Int) (Var 3 sort.Val) (Var 5 sort.List)) ∷ []) }) }) (record { temps = (name_p ∷ []); body = (c.Then (c.Return None) c.End) }) (s.Then 1 (s.Agree 0 1 ([])) s.NoBlock (s.Then 2 (s.Return ([]) ([]) ([])) s.NoBlock s.End)) ≡ (RefusedAt 1 33 1)
unfolding computing
edges_75 = refl

edges_76 : body_verdict (record { predicates = ([]); specs = ((record { is_void = true; name = name_f; params = (name_p ∷ []); vars = ((name_s, sort.Int) ∷ (name_t, sort.Int) ∷ (name_v, sort.Val) ∷ (name_w, sort.Val) ∷ (name_k, sort.List) ∷ (name_m, sort.List) ∷ []); pre = (record { opened = []; facts = ((Rel relation.Le (Of2 binary.Add (Var 0 sort.Int) (Var 1 sort.Int)) (Number (pos 64))) ∷ []); locals = []; items = ((Data (Var 0 sort.Int) (Var 2 sort.Val) (Var 4 sort.List)) ∷ (Data (Var 1 sort.Int) (Var 3 sort.Val) (Var 4 sort.List)) ∷ []) }); post = (record { opened = []; facts = ([]); locals = []; items = ((Data (Of2 binary.Add (Var 0 sort.Int) (Var 1 sort.Int)) (Var 2 sort.Val) (Var 4 sort.List)) ∷ []) }) }) ∷ []) }) (record { is_void = true; name = name_f; params = (name_p ∷ []); vars = ((name_s, sort.Int) ∷ (name_t, sort.Int) ∷ (name_v, sort.Val) ∷ (name_w, sort.Val) ∷ (name_k, sort.List) ∷ (name_m, sort.List) ∷ []); pre = (record { opened = []; facts = ((Rel relation.Le (Of2 binary.Add (Var 0 sort.Int) (Var 1 sort.Int)) (Number (pos 64))) ∷ []); locals = []; items = ((Data (Var 0 sort.Int) (Var 2 sort.Val) (Var 4 sort.List)) ∷ (Data (Var 1 sort.Int) (Var 3 sort.Val) (Var 4 sort.List)) ∷ []) }); post = (record { opened = []; facts = ([]); locals = []; items = ((Data (Of2 binary.Add (Var 0 sort.Int) (Var 1 sort.Int)) (Var 2 sort.Val) (Var 4 sort.List)) ∷ []) }) }) (record { temps = (name_p ∷ []); body = (c.Then (c.Return None) c.End) }) (s.Then 1 (s.Unshare 0 1 ([])) s.NoBlock (s.Then 2 (s.Return ([]) ([]) ([])) s.NoBlock s.End)) ≡ (RefusedAt 1 32 1)
unfolding computing
edges_76 = refl

edges_77 : body_verdict (record { predicates = ([]); specs = ((record { is_void = true; name = name_f; params = (name_p ∷ []); vars = ((name_s, sort.Int) ∷ (name_t, sort.Int) ∷ (name_v, sort.Val) ∷ (name_w, sort.Val) ∷ (name_k, sort.List) ∷ (name_m, sort.List) ∷ []); pre = (record { opened = []; facts = ((Rel relation.Le (Of2 binary.Add (Var 0 sort.Int) (Var 1 sort.Int)) (Number (pos 65))) ∷ []); locals = []; items = ((Data (Var 0 sort.Int) (Var 2 sort.Val) (Var 4 sort.List)) ∷ (Data (Var 1 sort.Int) (Var 3 sort.Val) (Var 4 sort.List)) ∷ []) }); post = (record { opened = []; facts = ([]); locals = []; items = ((Data (Of2 binary.Add (Var 0 sort.Int) (Var 1 sort.Int)) (Var 2 sort.Val) (Var 4 sort.List)) ∷ []) }) }) ∷ []) }) (record { is_void = true; name = name_f; params = (name_p ∷ []); vars = ((name_s, sort.Int) ∷ (name_t, sort.Int) ∷ (name_v, sort.Val) ∷ (name_w, sort.Val) ∷ (name_k, sort.List) ∷ (name_m, sort.List) ∷ []); pre = (record { opened = []; facts = ((Rel relation.Le (Of2 binary.Add (Var 0 sort.Int) (Var 1 sort.Int)) (Number (pos 65))) ∷ []); locals = []; items = ((Data (Var 0 sort.Int) (Var 2 sort.Val) (Var 4 sort.List)) ∷ (Data (Var 1 sort.Int) (Var 3 sort.Val) (Var 4 sort.List)) ∷ []) }); post = (record { opened = []; facts = ([]); locals = []; items = ((Data (Of2 binary.Add (Var 0 sort.Int) (Var 1 sort.Int)) (Var 2 sort.Val) (Var 4 sort.List)) ∷ []) }) }) (record { temps = (name_p ∷ []); body = (c.Then (c.Return None) c.End) }) (s.Then 1 (s.Unshare 0 1 ([])) s.NoBlock (s.Then 2 (s.Return ([]) ([]) ([])) s.NoBlock s.End)) ≡ (RefusedAt 1 32 1)
unfolding computing
edges_77 = refl

edges_78 : body_verdict (record { predicates = ([]); specs = ((record { is_void = true; name = name_f; params = (name_p ∷ []); vars = ((name_s, sort.Int) ∷ (name_t, sort.Int) ∷ (name_v, sort.Val) ∷ (name_w, sort.Val) ∷ (name_k, sort.List) ∷ (name_m, sort.List) ∷ []); pre = (record { opened = []; facts = ((Rel relation.Le (Number (pos 1)) (Of unary.Len (Var 4 sort.List))) ∷ []); locals = []; items = ((Data (Var 0 sort.Int) (Var 2 sort.Val) (Var 4 sort.List)) ∷ (Data (Var 1 sort.Int) (Var 3 sort.Val) (Var 5 sort.List)) ∷ []) }); post = (record { opened = []; facts = ((Rel relation.Le (Number (pos 1)) (Var 0 sort.Int)) ∷ (Rel relation.Le (Var 0 sort.Int) (Number (pos 64))) ∷ (IsPtr (Var 2 sort.Val)) ∷ []); locals = []; items = ((Data (Var 0 sort.Int) (Var 2 sort.Val) (Var 4 sort.List)) ∷ (Data (Var 1 sort.Int) (Var 3 sort.Val) (Var 5 sort.List)) ∷ []) }) }) ∷ []) }) (record { is_void = true; name = name_f; params = (name_p ∷ []); vars = ((name_s, sort.Int) ∷ (name_t, sort.Int) ∷ (name_v, sort.Val) ∷ (name_w, sort.Val) ∷ (name_k, sort.List) ∷ (name_m, sort.List) ∷ []); pre = (record { opened = []; facts = ((Rel relation.Le (Number (pos 1)) (Of unary.Len (Var 4 sort.List))) ∷ []); locals = []; items = ((Data (Var 0 sort.Int) (Var 2 sort.Val) (Var 4 sort.List)) ∷ (Data (Var 1 sort.Int) (Var 3 sort.Val) (Var 5 sort.List)) ∷ []) }); post = (record { opened = []; facts = ((Rel relation.Le (Number (pos 1)) (Var 0 sort.Int)) ∷ (Rel relation.Le (Var 0 sort.Int) (Number (pos 64))) ∷ (IsPtr (Var 2 sort.Val)) ∷ []); locals = []; items = ((Data (Var 0 sort.Int) (Var 2 sort.Val) (Var 4 sort.List)) ∷ (Data (Var 1 sort.Int) (Var 3 sort.Val) (Var 5 sort.List)) ∷ []) }) }) (record { temps = (name_p ∷ []); body = (c.Then (c.Return None) c.End) }) (s.Then 1 (s.Bounds 0 None ([])) s.NoBlock (s.Then 2 (s.Return ([]) ([]) ([])) s.NoBlock s.End)) ≡ Accepted
unfolding computing
edges_78 = refl

edges_79 : body_verdict (record { predicates = ([]); specs = ((record { is_void = true; name = name_f; params = (name_p ∷ []); vars = ((name_s, sort.Int) ∷ (name_t, sort.Int) ∷ (name_v, sort.Val) ∷ (name_w, sort.Val) ∷ (name_k, sort.List) ∷ (name_m, sort.List) ∷ []); pre = (record { opened = []; facts = ([]); locals = []; items = ((Data (Var 0 sort.Int) (Var 2 sort.Val) (Var 4 sort.List)) ∷ (Data (Var 1 sort.Int) (Var 3 sort.Val) (Var 5 sort.List)) ∷ []) }); post = (record { opened = []; facts = ((Rel relation.Le (Number (pos 1)) (Var 0 sort.Int)) ∷ []); locals = []; items = ((Data (Var 0 sort.Int) (Var 2 sort.Val) (Var 4 sort.List)) ∷ (Data (Var 1 sort.Int) (Var 3 sort.Val) (Var 5 sort.List)) ∷ []) }) }) ∷ []) }) (record { is_void = true; name = name_f; params = (name_p ∷ []); vars = ((name_s, sort.Int) ∷ (name_t, sort.Int) ∷ (name_v, sort.Val) ∷ (name_w, sort.Val) ∷ (name_k, sort.List) ∷ (name_m, sort.List) ∷ []); pre = (record { opened = []; facts = ([]); locals = []; items = ((Data (Var 0 sort.Int) (Var 2 sort.Val) (Var 4 sort.List)) ∷ (Data (Var 1 sort.Int) (Var 3 sort.Val) (Var 5 sort.List)) ∷ []) }); post = (record { opened = []; facts = ((Rel relation.Le (Number (pos 1)) (Var 0 sort.Int)) ∷ []); locals = []; items = ((Data (Var 0 sort.Int) (Var 2 sort.Val) (Var 4 sort.List)) ∷ (Data (Var 1 sort.Int) (Var 3 sort.Val) (Var 5 sort.List)) ∷ []) }) }) (record { temps = (name_p ∷ []); body = (c.Then (c.Return None) c.End) }) (s.Then 1 (s.Bounds 0 None ([])) s.NoBlock (s.Then 2 (s.Return ([]) ([]) ([])) s.NoBlock s.End)) ≡ (RefusedAt 1 34 3)
unfolding computing
edges_79 = refl

edges_80 : body_verdict (record { predicates = ([]); specs = ((record { is_void = true; name = name_f; params = (name_p ∷ []); vars = ((name_s, sort.Int) ∷ (name_t, sort.Int) ∷ (name_v, sort.Val) ∷ (name_w, sort.Val) ∷ (name_k, sort.List) ∷ (name_m, sort.List) ∷ []); pre = (record { opened = []; facts = ((Rel relation.Le (Number (pos 1)) (Of unary.Len (Var 4 sort.List))) ∷ []); locals = []; items = ((Data (Var 0 sort.Int) (Var 2 sort.Val) (Var 4 sort.List)) ∷ (Data (Var 1 sort.Int) (Var 3 sort.Val) (Var 5 sort.List)) ∷ []) }); post = (record { opened = []; facts = ((Rel relation.Le (Var 0 sort.Int) (Number (pos 63))) ∷ []); locals = []; items = ((Data (Var 0 sort.Int) (Var 2 sort.Val) (Var 4 sort.List)) ∷ (Data (Var 1 sort.Int) (Var 3 sort.Val) (Var 5 sort.List)) ∷ []) }) }) ∷ []) }) (record { is_void = true; name = name_f; params = (name_p ∷ []); vars = ((name_s, sort.Int) ∷ (name_t, sort.Int) ∷ (name_v, sort.Val) ∷ (name_w, sort.Val) ∷ (name_k, sort.List) ∷ (name_m, sort.List) ∷ []); pre = (record { opened = []; facts = ((Rel relation.Le (Number (pos 1)) (Of unary.Len (Var 4 sort.List))) ∷ []); locals = []; items = ((Data (Var 0 sort.Int) (Var 2 sort.Val) (Var 4 sort.List)) ∷ (Data (Var 1 sort.Int) (Var 3 sort.Val) (Var 5 sort.List)) ∷ []) }); post = (record { opened = []; facts = ((Rel relation.Le (Var 0 sort.Int) (Number (pos 63))) ∷ []); locals = []; items = ((Data (Var 0 sort.Int) (Var 2 sort.Val) (Var 4 sort.List)) ∷ (Data (Var 1 sort.Int) (Var 3 sort.Val) (Var 5 sort.List)) ∷ []) }) }) (record { temps = (name_p ∷ []); body = (c.Then (c.Return None) c.End) }) (s.Then 1 (s.Bounds 0 None ([])) s.NoBlock (s.Then 2 (s.Return ([]) ([]) ([])) s.NoBlock s.End)) ≡ (RefusedAt 2 9 3)
unfolding computing
edges_80 = refl

edges_81 : body_verdict (record { predicates = ([]); specs = ((record { is_void = true; name = name_f; params = (name_p ∷ []); vars = ((name_s, sort.Int) ∷ (name_t, sort.Int) ∷ (name_v, sort.Val) ∷ (name_w, sort.Val) ∷ (name_k, sort.List) ∷ (name_m, sort.List) ∷ []); pre = (record { opened = []; facts = ((Rel relation.Le (Number (pos 1)) (Of unary.Len (Var 4 sort.List))) ∷ (Rel relation.Le (Number (pos 65)) (Of2 binary.Add (Var 0 sort.Int) (Var 0 sort.Int))) ∷ (Rel relation.Le (Of2 binary.Add (Var 0 sort.Int) (Var 0 sort.Int)) (Number (pos 64))) ∷ []); locals = []; items = ((Data (Var 0 sort.Int) (Var 2 sort.Val) (Var 4 sort.List)) ∷ (Data (Var 1 sort.Int) (Var 3 sort.Val) (Var 5 sort.List)) ∷ []) }); post = (record { opened = []; facts = ([]); locals = []; items = ((Data (Var 0 sort.Int) (Var 2 sort.Val) (Var 4 sort.List)) ∷ (Data (Var 1 sort.Int) (Var 3 sort.Val) (Var 5 sort.List)) ∷ []) }) }) ∷ []) }) (record { is_void = true; name = name_f; params = (name_p ∷ []); vars = ((name_s, sort.Int) ∷ (name_t, sort.Int) ∷ (name_v, sort.Val) ∷ (name_w, sort.Val) ∷ (name_k, sort.List) ∷ (name_m, sort.List) ∷ []); pre = (record { opened = []; facts = ((Rel relation.Le (Number (pos 1)) (Of unary.Len (Var 4 sort.List))) ∷ (Rel relation.Le (Number (pos 65)) (Of2 binary.Add (Var 0 sort.Int) (Var 0 sort.Int))) ∷ (Rel relation.Le (Of2 binary.Add (Var 0 sort.Int) (Var 0 sort.Int)) (Number (pos 64))) ∷ []); locals = []; items = ((Data (Var 0 sort.Int) (Var 2 sort.Val) (Var 4 sort.List)) ∷ (Data (Var 1 sort.Int) (Var 3 sort.Val) (Var 5 sort.List)) ∷ []) }); post = (record { opened = []; facts = ([]); locals = []; items = ((Data (Var 0 sort.Int) (Var 2 sort.Val) (Var 4 sort.List)) ∷ (Data (Var 1 sort.Int) (Var 3 sort.Val) (Var 5 sort.List)) ∷ []) }) }) (record { temps = (name_p ∷ []); body = (c.Then (c.Return None) c.End) }) (s.Then 1 (s.Bounds 0 (Some 0) ([])) s.NoBlock (s.Then 2 (s.Return ([]) ([]) ([])) s.NoBlock s.End)) ≡ (RefusedAt 1 34 1)
unfolding computing
edges_81 = refl

edges_82 : body_verdict (record { predicates = ([]); specs = ((record { is_void = true; name = name_f; params = (name_p ∷ []); vars = ((name_s, sort.Int) ∷ (name_t, sort.Int) ∷ (name_v, sort.Val) ∷ (name_w, sort.Val) ∷ (name_k, sort.List) ∷ (name_m, sort.List) ∷ []); pre = (record { opened = []; facts = ((Rel relation.Le (Number (pos 1)) (Of unary.Len (Var 4 sort.List))) ∷ (Rel relation.Le (Number (pos 65)) (Of2 binary.Add (Var 0 sort.Int) (Var 0 sort.Int))) ∷ (Rel relation.Le (Of2 binary.Add (Var 0 sort.Int) (Var 0 sort.Int)) (Number (pos 64))) ∷ []); locals = []; items = ((Data (Var 0 sort.Int) (Var 2 sort.Val) (Var 4 sort.List)) ∷ (Data (Var 1 sort.Int) (Var 3 sort.Val) (Var 5 sort.List)) ∷ []) }); post = (record { opened = []; facts = ([]); locals = []; items = ((Data (Var 0 sort.Int) (Var 2 sort.Val) (Var 4 sort.List)) ∷ (Data (Var 1 sort.Int) (Var 3 sort.Val) (Var 5 sort.List)) ∷ []) }) }) ∷ []) }) (record { is_void = true; name = name_f; params = (name_p ∷ []); vars = ((name_s, sort.Int) ∷ (name_t, sort.Int) ∷ (name_v, sort.Val) ∷ (name_w, sort.Val) ∷ (name_k, sort.List) ∷ (name_m, sort.List) ∷ []); pre = (record { opened = []; facts = ((Rel relation.Le (Number (pos 1)) (Of unary.Len (Var 4 sort.List))) ∷ (Rel relation.Le (Number (pos 65)) (Of2 binary.Add (Var 0 sort.Int) (Var 0 sort.Int))) ∷ (Rel relation.Le (Of2 binary.Add (Var 0 sort.Int) (Var 0 sort.Int)) (Number (pos 64))) ∷ []); locals = []; items = ((Data (Var 0 sort.Int) (Var 2 sort.Val) (Var 4 sort.List)) ∷ (Data (Var 1 sort.Int) (Var 3 sort.Val) (Var 5 sort.List)) ∷ []) }); post = (record { opened = []; facts = ([]); locals = []; items = ((Data (Var 0 sort.Int) (Var 2 sort.Val) (Var 4 sort.List)) ∷ (Data (Var 1 sort.Int) (Var 3 sort.Val) (Var 5 sort.List)) ∷ []) }) }) (record { temps = (name_p ∷ []); body = (c.Then (c.Return None) c.End) }) (s.Then 1 (s.Apart 0 0 ([])) s.NoBlock (s.Then 2 (s.Return ([]) ([]) ([])) s.NoBlock s.End)) ≡ (RefusedAt 1 35 1)
unfolding computing
edges_82 = refl

edges_83 : body_verdict (record { predicates = ([]); specs = ((record { is_void = true; name = name_f; params = (name_p ∷ []); vars = ((name_s, sort.Int) ∷ (name_t, sort.Int) ∷ (name_v, sort.Val) ∷ (name_w, sort.Val) ∷ (name_k, sort.List) ∷ (name_m, sort.List) ∷ []); pre = (record { opened = []; facts = ((Rel relation.Le (Number (pos 1)) (Of unary.Len (Var 4 sort.List))) ∷ (Rel relation.Le (Number (pos 65)) (Of2 binary.Add (Var 0 sort.Int) (Var 0 sort.Int))) ∷ (Rel relation.Le (Of2 binary.Add (Var 0 sort.Int) (Var 0 sort.Int)) (Number (pos 64))) ∷ []); locals = []; items = ((Data (Var 0 sort.Int) (Var 2 sort.Val) (Var 4 sort.List)) ∷ (Data (Var 1 sort.Int) (Var 3 sort.Val) (Var 5 sort.List)) ∷ []) }); post = (record { opened = []; facts = ([]); locals = []; items = ((Data (Var 0 sort.Int) (Var 2 sort.Val) (Var 4 sort.List)) ∷ (Data (Var 1 sort.Int) (Var 3 sort.Val) (Var 5 sort.List)) ∷ []) }) }) ∷ []) }) (record { is_void = true; name = name_f; params = (name_p ∷ []); vars = ((name_s, sort.Int) ∷ (name_t, sort.Int) ∷ (name_v, sort.Val) ∷ (name_w, sort.Val) ∷ (name_k, sort.List) ∷ (name_m, sort.List) ∷ []); pre = (record { opened = []; facts = ((Rel relation.Le (Number (pos 1)) (Of unary.Len (Var 4 sort.List))) ∷ (Rel relation.Le (Number (pos 65)) (Of2 binary.Add (Var 0 sort.Int) (Var 0 sort.Int))) ∷ (Rel relation.Le (Of2 binary.Add (Var 0 sort.Int) (Var 0 sort.Int)) (Number (pos 64))) ∷ []); locals = []; items = ((Data (Var 0 sort.Int) (Var 2 sort.Val) (Var 4 sort.List)) ∷ (Data (Var 1 sort.Int) (Var 3 sort.Val) (Var 5 sort.List)) ∷ []) }); post = (record { opened = []; facts = ([]); locals = []; items = ((Data (Var 0 sort.Int) (Var 2 sort.Val) (Var 4 sort.List)) ∷ (Data (Var 1 sort.Int) (Var 3 sort.Val) (Var 5 sort.List)) ∷ []) }) }) (record { temps = (name_p ∷ []); body = (c.Then (c.Return None) c.End) }) (s.Then 1 (s.Agree 0 0 ([])) s.NoBlock (s.Then 2 (s.Return ([]) ([]) ([])) s.NoBlock s.End)) ≡ (RefusedAt 1 33 1)
unfolding computing
edges_83 = refl

edges_84 : body_verdict (record { predicates = ([]); specs = ((record { is_void = true; name = name_f; params = (name_p ∷ []); vars = ((name_s, sort.Int) ∷ (name_t, sort.Int) ∷ (name_v, sort.Val) ∷ (name_w, sort.Val) ∷ (name_k, sort.List) ∷ (name_m, sort.List) ∷ []); pre = (record { opened = []; facts = ((Rel relation.Le (Number (pos 1)) (Of unary.Len (Var 4 sort.List))) ∷ (Rel relation.Le (Number (pos 65)) (Of2 binary.Add (Var 0 sort.Int) (Var 0 sort.Int))) ∷ (Rel relation.Le (Of2 binary.Add (Var 0 sort.Int) (Var 0 sort.Int)) (Number (pos 64))) ∷ []); locals = []; items = ((Data (Var 0 sort.Int) (Var 2 sort.Val) (Var 4 sort.List)) ∷ (Data (Var 1 sort.Int) (Var 3 sort.Val) (Var 5 sort.List)) ∷ []) }); post = (record { opened = []; facts = ([]); locals = []; items = ((Data (Var 0 sort.Int) (Var 2 sort.Val) (Var 4 sort.List)) ∷ (Data (Var 1 sort.Int) (Var 3 sort.Val) (Var 5 sort.List)) ∷ []) }) }) ∷ []) }) (record { is_void = true; name = name_f; params = (name_p ∷ []); vars = ((name_s, sort.Int) ∷ (name_t, sort.Int) ∷ (name_v, sort.Val) ∷ (name_w, sort.Val) ∷ (name_k, sort.List) ∷ (name_m, sort.List) ∷ []); pre = (record { opened = []; facts = ((Rel relation.Le (Number (pos 1)) (Of unary.Len (Var 4 sort.List))) ∷ (Rel relation.Le (Number (pos 65)) (Of2 binary.Add (Var 0 sort.Int) (Var 0 sort.Int))) ∷ (Rel relation.Le (Of2 binary.Add (Var 0 sort.Int) (Var 0 sort.Int)) (Number (pos 64))) ∷ []); locals = []; items = ((Data (Var 0 sort.Int) (Var 2 sort.Val) (Var 4 sort.List)) ∷ (Data (Var 1 sort.Int) (Var 3 sort.Val) (Var 5 sort.List)) ∷ []) }); post = (record { opened = []; facts = ([]); locals = []; items = ((Data (Var 0 sort.Int) (Var 2 sort.Val) (Var 4 sort.List)) ∷ (Data (Var 1 sort.Int) (Var 3 sort.Val) (Var 5 sort.List)) ∷ []) }) }) (record { temps = (name_p ∷ []); body = (c.Then (c.Return None) c.End) }) (s.Then 1 (s.Unshare 0 0 ([])) s.NoBlock (s.Then 2 (s.Return ([]) ([]) ([])) s.NoBlock s.End)) ≡ (RefusedAt 1 32 1)
unfolding computing
edges_84 = refl

edges_85 : body_verdict (record { predicates = ([]); specs = ((record { is_void = true; name = name_f; params = (name_p ∷ []); vars = ((name_s, sort.Int) ∷ (name_t, sort.Int) ∷ (name_v, sort.Val) ∷ (name_w, sort.Val) ∷ (name_k, sort.List) ∷ (name_m, sort.List) ∷ []); pre = (record { opened = []; facts = ((Rel relation.Le (Number (pos 1)) (Of unary.Len (Var 4 sort.List))) ∷ (Rel relation.Le (Number (pos 65)) (Of2 binary.Add (Var 0 sort.Int) (Var 0 sort.Int))) ∷ (Rel relation.Le (Of2 binary.Add (Var 0 sort.Int) (Var 0 sort.Int)) (Number (pos 64))) ∷ []); locals = []; items = ((Data (Var 0 sort.Int) (Var 2 sort.Val) (Var 4 sort.List)) ∷ (Data (Var 1 sort.Int) (Var 3 sort.Val) (Var 5 sort.List)) ∷ []) }); post = (record { opened = []; facts = ([]); locals = []; items = ((Data (Var 0 sort.Int) (Var 2 sort.Val) (Var 4 sort.List)) ∷ (Data (Var 1 sort.Int) (Var 3 sort.Val) (Var 5 sort.List)) ∷ []) }) }) ∷ []) }) (record { is_void = true; name = name_f; params = (name_p ∷ []); vars = ((name_s, sort.Int) ∷ (name_t, sort.Int) ∷ (name_v, sort.Val) ∷ (name_w, sort.Val) ∷ (name_k, sort.List) ∷ (name_m, sort.List) ∷ []); pre = (record { opened = []; facts = ((Rel relation.Le (Number (pos 1)) (Of unary.Len (Var 4 sort.List))) ∷ (Rel relation.Le (Number (pos 65)) (Of2 binary.Add (Var 0 sort.Int) (Var 0 sort.Int))) ∷ (Rel relation.Le (Of2 binary.Add (Var 0 sort.Int) (Var 0 sort.Int)) (Number (pos 64))) ∷ []); locals = []; items = ((Data (Var 0 sort.Int) (Var 2 sort.Val) (Var 4 sort.List)) ∷ (Data (Var 1 sort.Int) (Var 3 sort.Val) (Var 5 sort.List)) ∷ []) }); post = (record { opened = []; facts = ([]); locals = []; items = ((Data (Var 0 sort.Int) (Var 2 sort.Val) (Var 4 sort.List)) ∷ (Data (Var 1 sort.Int) (Var 3 sort.Val) (Var 5 sort.List)) ∷ []) }) }) (record { temps = (name_p ∷ []); body = (c.Then (c.Return None) c.End) }) (s.Then 1 (s.Glue 0 0) s.NoBlock (s.Then 2 (s.Return ([]) ([]) ([])) s.NoBlock s.End)) ≡ (RefusedAt 1 30 1)
unfolding computing
edges_85 = refl

edges_86 : body_verdict (record { predicates = ([]); specs = ((record { is_void = true; name = name_f; params = (name_p ∷ []); vars = ((name_s, sort.Int) ∷ (name_t, sort.Int) ∷ (name_v, sort.Val) ∷ (name_w, sort.Val) ∷ (name_k, sort.List) ∷ (name_m, sort.List) ∷ []); pre = (record { opened = []; facts = ([]); locals = []; items = ((Data (Var 0 sort.Int) (Var 2 sort.Val) (Var 4 sort.List)) ∷ (Data (Var 0 sort.Int) (Of2 binary.Off (Var 2 sort.Val) (Of unary.Len (Var 4 sort.List))) (Var 5 sort.List)) ∷ []) }); post = (record { opened = []; facts = ([]); locals = []; items = ((Data (Var 0 sort.Int) (Var 2 sort.Val) (Of2 binary.App (Var 4 sort.List) (Var 5 sort.List))) ∷ []) }) }) ∷ []) }) (record { is_void = true; name = name_f; params = (name_p ∷ []); vars = ((name_s, sort.Int) ∷ (name_t, sort.Int) ∷ (name_v, sort.Val) ∷ (name_w, sort.Val) ∷ (name_k, sort.List) ∷ (name_m, sort.List) ∷ []); pre = (record { opened = []; facts = ([]); locals = []; items = ((Data (Var 0 sort.Int) (Var 2 sort.Val) (Var 4 sort.List)) ∷ (Data (Var 0 sort.Int) (Of2 binary.Off (Var 2 sort.Val) (Of unary.Len (Var 4 sort.List))) (Var 5 sort.List)) ∷ []) }); post = (record { opened = []; facts = ([]); locals = []; items = ((Data (Var 0 sort.Int) (Var 2 sort.Val) (Of2 binary.App (Var 4 sort.List) (Var 5 sort.List))) ∷ []) }) }) (record { temps = (name_p ∷ []); body = (c.Then (c.Return None) c.End) }) (s.Then 1 (s.Glue 0 1) s.NoBlock (s.Then 2 (s.Return ([]) ([]) ([])) s.NoBlock s.End)) ≡ Accepted
unfolding computing
edges_86 = refl

edges_87 : body_verdict (record { predicates = ([]); specs = ((record { is_void = true; name = name_f; params = (name_p ∷ []); vars = ((name_s, sort.Int) ∷ (name_t, sort.Int) ∷ (name_v, sort.Val) ∷ (name_w, sort.Val) ∷ (name_k, sort.List) ∷ (name_m, sort.List) ∷ []); pre = (record { opened = []; facts = ([]); locals = []; items = ((Data (Var 0 sort.Int) (Var 2 sort.Val) (Var 4 sort.List)) ∷ (Data (Var 1 sort.Int) (Of2 binary.Off (Var 2 sort.Val) (Of unary.Len (Var 4 sort.List))) (Var 5 sort.List)) ∷ []) }); post = (record { opened = []; facts = ([]); locals = []; items = ((Data (Var 0 sort.Int) (Var 2 sort.Val) (Of2 binary.App (Var 4 sort.List) (Var 5 sort.List))) ∷ []) }) }) ∷ []) }) (record { is_void = true; name = name_f; params = (name_p ∷ []); vars = ((name_s, sort.Int) ∷ (name_t, sort.Int) ∷ (name_v, sort.Val) ∷ (name_w, sort.Val) ∷ (name_k, sort.List) ∷ (name_m, sort.List) ∷ []); pre = (record { opened = []; facts = ([]); locals = []; items = ((Data (Var 0 sort.Int) (Var 2 sort.Val) (Var 4 sort.List)) ∷ (Data (Var 1 sort.Int) (Of2 binary.Off (Var 2 sort.Val) (Of unary.Len (Var 4 sort.List))) (Var 5 sort.List)) ∷ []) }); post = (record { opened = []; facts = ([]); locals = []; items = ((Data (Var 0 sort.Int) (Var 2 sort.Val) (Of2 binary.App (Var 4 sort.List) (Var 5 sort.List))) ∷ []) }) }) (record { temps = (name_p ∷ []); body = (c.Then (c.Return None) c.End) }) (s.Then 1 (s.Glue 0 1) s.NoBlock (s.Then 2 (s.Return ([]) ([]) ([])) s.NoBlock s.End)) ≡ (RefusedAt 1 30 1)
unfolding computing
edges_87 = refl

edges_88 : body_verdict (record { predicates = ([]); specs = ((record { is_void = true; name = name_f; params = (name_p ∷ []); vars = ((name_s, sort.Int) ∷ (name_t, sort.Int) ∷ (name_v, sort.Val) ∷ (name_w, sort.Val) ∷ (name_k, sort.List) ∷ (name_m, sort.List) ∷ []); pre = (record { opened = []; facts = ([]); locals = []; items = ((Data (Var 0 sort.Int) (Var 2 sort.Val) (Var 4 sort.List)) ∷ (Data (Var 0 sort.Int) (Var 3 sort.Val) (Var 5 sort.List)) ∷ []) }); post = (record { opened = []; facts = ([]); locals = []; items = ((Data (Var 0 sort.Int) (Var 2 sort.Val) (Of2 binary.App (Var 4 sort.List) (Var 5 sort.List))) ∷ []) }) }) ∷ []) }) (record { is_void = true; name = name_f; params = (name_p ∷ []); vars = ((name_s, sort.Int) ∷ (name_t, sort.Int) ∷ (name_v, sort.Val) ∷ (name_w, sort.Val) ∷ (name_k, sort.List) ∷ (name_m, sort.List) ∷ []); pre = (record { opened = []; facts = ([]); locals = []; items = ((Data (Var 0 sort.Int) (Var 2 sort.Val) (Var 4 sort.List)) ∷ (Data (Var 0 sort.Int) (Var 3 sort.Val) (Var 5 sort.List)) ∷ []) }); post = (record { opened = []; facts = ([]); locals = []; items = ((Data (Var 0 sort.Int) (Var 2 sort.Val) (Of2 binary.App (Var 4 sort.List) (Var 5 sort.List))) ∷ []) }) }) (record { temps = (name_p ∷ []); body = (c.Then (c.Return None) c.End) }) (s.Then 1 (s.Glue 0 1) s.NoBlock (s.Then 2 (s.Return ([]) ([]) ([])) s.NoBlock s.End)) ≡ (RefusedAt 1 30 1)
unfolding computing
edges_88 = refl

edges_89 : body_verdict (record { predicates = ([]); specs = ((record { is_void = true; name = name_f; params = (name_p ∷ []); vars = ((name_s, sort.Int) ∷ (name_t, sort.Int) ∷ (name_v, sort.Val) ∷ (name_w, sort.Val) ∷ (name_k, sort.List) ∷ (name_m, sort.List) ∷ []); pre = (record { opened = []; facts = ([]); locals = []; items = ((Data (Var 0 sort.Int) (Of2 binary.Off (Var 2 sort.Val) (Of unary.Len (Var 5 sort.List))) (Var 4 sort.List)) ∷ (Data (Var 0 sort.Int) (Var 2 sort.Val) (Var 5 sort.List)) ∷ []) }); post = (record { opened = []; facts = ([]); locals = []; items = ((Data (Var 0 sort.Int) (Var 2 sort.Val) (Of2 binary.App (Var 5 sort.List) (Var 4 sort.List))) ∷ []) }) }) ∷ []) }) (record { is_void = true; name = name_f; params = (name_p ∷ []); vars = ((name_s, sort.Int) ∷ (name_t, sort.Int) ∷ (name_v, sort.Val) ∷ (name_w, sort.Val) ∷ (name_k, sort.List) ∷ (name_m, sort.List) ∷ []); pre = (record { opened = []; facts = ([]); locals = []; items = ((Data (Var 0 sort.Int) (Of2 binary.Off (Var 2 sort.Val) (Of unary.Len (Var 5 sort.List))) (Var 4 sort.List)) ∷ (Data (Var 0 sort.Int) (Var 2 sort.Val) (Var 5 sort.List)) ∷ []) }); post = (record { opened = []; facts = ([]); locals = []; items = ((Data (Var 0 sort.Int) (Var 2 sort.Val) (Of2 binary.App (Var 5 sort.List) (Var 4 sort.List))) ∷ []) }) }) (record { temps = (name_p ∷ []); body = (c.Then (c.Return None) c.End) }) (s.Then 1 (s.Glue 1 0) s.NoBlock (s.Then 2 (s.Return ([]) ([]) ([])) s.NoBlock s.End)) ≡ Accepted
unfolding computing
edges_89 = refl

edges_90 : body_verdict (record { predicates = ([]); specs = ((record { is_void = true; name = name_f; params = (name_p ∷ []); vars = ((name_s, sort.Int) ∷ (name_t, sort.Int) ∷ (name_v, sort.Val) ∷ (name_w, sort.Val) ∷ (name_k, sort.List) ∷ (name_m, sort.List) ∷ []); pre = (record { opened = []; facts = ((Rel relation.Le (Number (pos 1)) (Var 1 sort.Int)) ∷ (Rel relation.Le (Of2 binary.Add (Var 1 sort.Int) (Number (pos 1))) (Var 0 sort.Int)) ∷ []); locals = []; items = ((Data (Var 0 sort.Int) (Var 2 sort.Val) (Var 4 sort.List)) ∷ []) }); post = (record { opened = []; facts = ([]); locals = []; items = ((Data (Var 1 sort.Int) (Var 2 sort.Val) (Var 4 sort.List)) ∷ (Data (Of2 binary.Sub (Var 0 sort.Int) (Var 1 sort.Int)) (Var 2 sort.Val) (Var 4 sort.List)) ∷ []) }) }) ∷ []) }) (record { is_void = true; name = name_f; params = (name_p ∷ []); vars = ((name_s, sort.Int) ∷ (name_t, sort.Int) ∷ (name_v, sort.Val) ∷ (name_w, sort.Val) ∷ (name_k, sort.List) ∷ (name_m, sort.List) ∷ []); pre = (record { opened = []; facts = ((Rel relation.Le (Number (pos 1)) (Var 1 sort.Int)) ∷ (Rel relation.Le (Of2 binary.Add (Var 1 sort.Int) (Number (pos 1))) (Var 0 sort.Int)) ∷ []); locals = []; items = ((Data (Var 0 sort.Int) (Var 2 sort.Val) (Var 4 sort.List)) ∷ []) }); post = (record { opened = []; facts = ([]); locals = []; items = ((Data (Var 1 sort.Int) (Var 2 sort.Val) (Var 4 sort.List)) ∷ (Data (Of2 binary.Sub (Var 0 sort.Int) (Var 1 sort.Int)) (Var 2 sort.Val) (Var 4 sort.List)) ∷ []) }) }) (record { temps = (name_p ∷ []); body = (c.Then (c.Return None) c.End) }) (s.Then 1 (s.Share 0 (Named name_t) ([])) s.NoBlock (s.Then 2 (s.Return ([]) ([]) ([])) s.NoBlock s.End)) ≡ Accepted
unfolding computing
edges_90 = refl

edges_91 : body_verdict (record { predicates = ([]); specs = ((record { is_void = true; name = name_f; params = (name_p ∷ []); vars = ((name_s, sort.Int) ∷ (name_t, sort.Int) ∷ (name_v, sort.Val) ∷ (name_w, sort.Val) ∷ (name_k, sort.List) ∷ (name_m, sort.List) ∷ []); pre = (record { opened = []; facts = ((Rel relation.Le (Number (pos 1)) (Var 1 sort.Int)) ∷ (Rel relation.Le (Var 1 sort.Int) (Var 0 sort.Int)) ∷ []); locals = []; items = ((Data (Var 0 sort.Int) (Var 2 sort.Val) (Var 4 sort.List)) ∷ []) }); post = (record { opened = []; facts = ([]); locals = []; items = ((Data (Var 1 sort.Int) (Var 2 sort.Val) (Var 4 sort.List)) ∷ (Data (Of2 binary.Sub (Var 0 sort.Int) (Var 1 sort.Int)) (Var 2 sort.Val) (Var 4 sort.List)) ∷ []) }) }) ∷ []) }) (record { is_void = true; name = name_f; params = (name_p ∷ []); vars = ((name_s, sort.Int) ∷ (name_t, sort.Int) ∷ (name_v, sort.Val) ∷ (name_w, sort.Val) ∷ (name_k, sort.List) ∷ (name_m, sort.List) ∷ []); pre = (record { opened = []; facts = ((Rel relation.Le (Number (pos 1)) (Var 1 sort.Int)) ∷ (Rel relation.Le (Var 1 sort.Int) (Var 0 sort.Int)) ∷ []); locals = []; items = ((Data (Var 0 sort.Int) (Var 2 sort.Val) (Var 4 sort.List)) ∷ []) }); post = (record { opened = []; facts = ([]); locals = []; items = ((Data (Var 1 sort.Int) (Var 2 sort.Val) (Var 4 sort.List)) ∷ (Data (Of2 binary.Sub (Var 0 sort.Int) (Var 1 sort.Int)) (Var 2 sort.Val) (Var 4 sort.List)) ∷ []) }) }) (record { temps = (name_p ∷ []); body = (c.Then (c.Return None) c.End) }) (s.Then 1 (s.Share 0 (Named name_t) ([])) s.NoBlock (s.Then 2 (s.Return ([]) ([]) ([])) s.NoBlock s.End)) ≡ (RefusedAt 1 31 3)
unfolding computing
edges_91 = refl

edges_92 : body_verdict (record { predicates = ([]); specs = ((record { is_void = true; name = name_f; params = (name_p ∷ []); vars = ((name_s, sort.Int) ∷ (name_t, sort.Int) ∷ (name_v, sort.Val) ∷ (name_w, sort.Val) ∷ (name_k, sort.List) ∷ (name_m, sort.List) ∷ []); pre = (record { opened = []; facts = ((Rel relation.Le (Number (pos 0)) (Var 1 sort.Int)) ∷ (Rel relation.Le (Of2 binary.Add (Var 1 sort.Int) (Number (pos 1))) (Var 0 sort.Int)) ∷ []); locals = []; items = ((Data (Var 0 sort.Int) (Var 2 sort.Val) (Var 4 sort.List)) ∷ []) }); post = (record { opened = []; facts = ([]); locals = []; items = ((Data (Var 1 sort.Int) (Var 2 sort.Val) (Var 4 sort.List)) ∷ (Data (Of2 binary.Sub (Var 0 sort.Int) (Var 1 sort.Int)) (Var 2 sort.Val) (Var 4 sort.List)) ∷ []) }) }) ∷ []) }) (record { is_void = true; name = name_f; params = (name_p ∷ []); vars = ((name_s, sort.Int) ∷ (name_t, sort.Int) ∷ (name_v, sort.Val) ∷ (name_w, sort.Val) ∷ (name_k, sort.List) ∷ (name_m, sort.List) ∷ []); pre = (record { opened = []; facts = ((Rel relation.Le (Number (pos 0)) (Var 1 sort.Int)) ∷ (Rel relation.Le (Of2 binary.Add (Var 1 sort.Int) (Number (pos 1))) (Var 0 sort.Int)) ∷ []); locals = []; items = ((Data (Var 0 sort.Int) (Var 2 sort.Val) (Var 4 sort.List)) ∷ []) }); post = (record { opened = []; facts = ([]); locals = []; items = ((Data (Var 1 sort.Int) (Var 2 sort.Val) (Var 4 sort.List)) ∷ (Data (Of2 binary.Sub (Var 0 sort.Int) (Var 1 sort.Int)) (Var 2 sort.Val) (Var 4 sort.List)) ∷ []) }) }) (record { temps = (name_p ∷ []); body = (c.Then (c.Return None) c.End) }) (s.Then 1 (s.Share 0 (Named name_t) ([])) s.NoBlock (s.Then 2 (s.Return ([]) ([]) ([])) s.NoBlock s.End)) ≡ (RefusedAt 1 31 3)
unfolding computing
edges_92 = refl

edges_93 : body_verdict (record { predicates = ([]); specs = ((record { is_void = true; name = name_f; params = (name_p ∷ []); vars = ((name_s, sort.Int) ∷ (name_t, sort.Int) ∷ (name_v, sort.Val) ∷ (name_w, sort.Val) ∷ (name_k, sort.List) ∷ (name_m, sort.List) ∷ []); pre = (record { opened = []; facts = ([]); locals = []; items = ((Data (Var 0 sort.Int) (Var 2 sort.Val) (Of2 binary.App (Var 4 sort.List) (Var 5 sort.List))) ∷ []) }); post = (record { opened = []; facts = ([]); locals = []; items = ((Data (Var 0 sort.Int) (Of2 binary.Off (Var 2 sort.Val) (Of unary.Len (Var 4 sort.List))) (Var 5 sort.List)) ∷ (Data (Var 0 sort.Int) (Var 2 sort.Val) (Var 4 sort.List)) ∷ []) }) }) ∷ []) }) (record { is_void = true; name = name_f; params = (name_p ∷ []); vars = ((name_s, sort.Int) ∷ (name_t, sort.Int) ∷ (name_v, sort.Val) ∷ (name_w, sort.Val) ∷ (name_k, sort.List) ∷ (name_m, sort.List) ∷ []); pre = (record { opened = []; facts = ([]); locals = []; items = ((Data (Var 0 sort.Int) (Var 2 sort.Val) (Of2 binary.App (Var 4 sort.List) (Var 5 sort.List))) ∷ []) }); post = (record { opened = []; facts = ([]); locals = []; items = ((Data (Var 0 sort.Int) (Of2 binary.Off (Var 2 sort.Val) (Of unary.Len (Var 4 sort.List))) (Var 5 sort.List)) ∷ (Data (Var 0 sort.Int) (Var 2 sort.Val) (Var 4 sort.List)) ∷ []) }) }) (record { temps = (name_p ∷ []); body = (c.Then (c.Return None) c.End) }) (s.Then 1 (s.Cut 0 (Named name_k) (Named name_m)) s.NoBlock (s.Then 2 (s.Return ([]) ([]) ([])) s.NoBlock s.End)) ≡ Accepted
unfolding computing
edges_93 = refl

edges_94 : body_verdict (record { predicates = ([]); specs = ((record { is_void = true; name = name_f; params = (name_p ∷ []); vars = ((name_s, sort.Int) ∷ (name_t, sort.Int) ∷ (name_v, sort.Val) ∷ (name_w, sort.Val) ∷ (name_k, sort.List) ∷ (name_m, sort.List) ∷ []); pre = (record { opened = []; facts = ([]); locals = []; items = ((Data (Var 0 sort.Int) (Var 2 sort.Val) (Of2 binary.App (Var 4 sort.List) (Var 5 sort.List))) ∷ []) }); post = (record { opened = []; facts = ([]); locals = []; items = ((Data (Var 0 sort.Int) (Var 2 sort.Val) (Of2 binary.App (Var 4 sort.List) (Var 5 sort.List))) ∷ []) }) }) ∷ []) }) (record { is_void = true; name = name_f; params = (name_p ∷ []); vars = ((name_s, sort.Int) ∷ (name_t, sort.Int) ∷ (name_v, sort.Val) ∷ (name_w, sort.Val) ∷ (name_k, sort.List) ∷ (name_m, sort.List) ∷ []); pre = (record { opened = []; facts = ([]); locals = []; items = ((Data (Var 0 sort.Int) (Var 2 sort.Val) (Of2 binary.App (Var 4 sort.List) (Var 5 sort.List))) ∷ []) }); post = (record { opened = []; facts = ([]); locals = []; items = ((Data (Var 0 sort.Int) (Var 2 sort.Val) (Of2 binary.App (Var 4 sort.List) (Var 5 sort.List))) ∷ []) }) }) (record { temps = (name_p ∷ []); body = (c.Then (c.Return None) c.End) }) (s.Then 1 (s.Cut 0 (Named name_m) (Named name_k)) s.NoBlock (s.Then 2 (s.Return ([]) ([]) ([])) s.NoBlock s.End)) ≡ (RefusedAt 1 29 1)
unfolding computing
edges_94 = refl

edges_95 : body_verdict (record { predicates = ([]); specs = ((record { is_void = true; name = name_f; params = (name_p ∷ []); vars = ((name_s, sort.Int) ∷ (name_t, sort.Int) ∷ (name_v, sort.Val) ∷ (name_w, sort.Val) ∷ (name_k, sort.List) ∷ (name_m, sort.List) ∷ []); pre = (record { opened = []; facts = ((Rel relation.Eq (Var 0 sort.Int) (Var 1 sort.Int)) ∷ []); locals = []; items = ((Data (Var 0 sort.Int) (Var 2 sort.Val) (Var 4 sort.List)) ∷ []) }); post = (record { opened = []; facts = ([]); locals = []; items = ((Data (Var 0 sort.Int) (Var 2 sort.Val) (Var 4 sort.List)) ∷ []) }) }) ∷ []) }) (record { is_void = true; name = name_f; params = (name_p ∷ []); vars = ((name_s, sort.Int) ∷ (name_t, sort.Int) ∷ (name_v, sort.Val) ∷ (name_w, sort.Val) ∷ (name_k, sort.List) ∷ (name_m, sort.List) ∷ []); pre = (record { opened = []; facts = ((Rel relation.Eq (Var 0 sort.Int) (Var 1 sort.Int)) ∷ []); locals = []; items = ((Data (Var 0 sort.Int) (Var 2 sort.Val) (Var 4 sort.List)) ∷ []) }); post = (record { opened = []; facts = ([]); locals = []; items = ((Data (Var 0 sort.Int) (Var 2 sort.Val) (Var 4 sort.List)) ∷ []) }) }) (record { temps = (name_p ∷ []); body = (c.Then (c.Return None) c.End) }) (s.Then 1 (s.Subst name_s) s.NoBlock (s.Then 2 (s.Return ([]) ([]) ([])) s.NoBlock s.End)) ≡ (RefusedAt 1 27 8)
unfolding computing
edges_95 = refl

edges_96 : body_verdict (record { predicates = ([]); specs = ((record { is_void = true; name = name_f; params = (name_p ∷ []); vars = ((name_s, sort.Int) ∷ (name_t, sort.Int) ∷ (name_v, sort.Val) ∷ (name_w, sort.Val) ∷ (name_k, sort.List) ∷ (name_m, sort.List) ∷ []); pre = (record { opened = []; facts = ([]); locals = []; items = ((Data (Var 0 sort.Int) (Var 2 sort.Val) (Var 4 sort.List)) ∷ []) }); post = (record { opened = []; facts = ([]); locals = []; items = ((Data (Var 0 sort.Int) (Var 2 sort.Val) (Var 4 sort.List)) ∷ []) }) }) ∷ []) }) (record { is_void = true; name = name_f; params = (name_p ∷ []); vars = ((name_s, sort.Int) ∷ (name_t, sort.Int) ∷ (name_v, sort.Val) ∷ (name_w, sort.Val) ∷ (name_k, sort.List) ∷ (name_m, sort.List) ∷ []); pre = (record { opened = []; facts = ([]); locals = []; items = ((Data (Var 0 sort.Int) (Var 2 sort.Val) (Var 4 sort.List)) ∷ []) }); post = (record { opened = []; facts = ([]); locals = []; items = ((Data (Var 0 sort.Int) (Var 2 sort.Val) (Var 4 sort.List)) ∷ []) }) }) (record { temps = (name_p ∷ []); body = (c.Then (c.Return None) c.End) }) (s.Then 1 (s.Naming name_x (Named name_s)) s.NoBlock (s.Then 2 (s.Subst name_x) s.NoBlock (s.Then 3 (s.Return ([]) ([]) ([])) s.NoBlock s.End))) ≡ Accepted
unfolding computing
edges_96 = refl

edges_97 : body_verdict (record { predicates = ([]); specs = ((record { is_void = true; name = name_f; params = (name_p ∷ []); vars = ((name_s, sort.Int) ∷ (name_t, sort.Int) ∷ (name_v, sort.Val) ∷ (name_w, sort.Val) ∷ (name_k, sort.List) ∷ (name_m, sort.List) ∷ []); pre = (record { opened = []; facts = ([]); locals = []; items = ((Data (Var 0 sort.Int) (Var 2 sort.Val) (Var 4 sort.List)) ∷ []) }); post = (record { opened = []; facts = ([]); locals = []; items = ((Data (Var 0 sort.Int) (Var 2 sort.Val) (Var 4 sort.List)) ∷ []) }) }) ∷ []) }) (record { is_void = true; name = name_f; params = (name_p ∷ []); vars = ((name_s, sort.Int) ∷ (name_t, sort.Int) ∷ (name_v, sort.Val) ∷ (name_w, sort.Val) ∷ (name_k, sort.List) ∷ (name_m, sort.List) ∷ []); pre = (record { opened = []; facts = ([]); locals = []; items = ((Data (Var 0 sort.Int) (Var 2 sort.Val) (Var 4 sort.List)) ∷ []) }); post = (record { opened = []; facts = ([]); locals = []; items = ((Data (Var 0 sort.Int) (Var 2 sort.Val) (Var 4 sort.List)) ∷ []) }) }) (record { temps = (name_p ∷ []); body = (c.Then (c.Return None) c.End) }) (s.Then 1 (s.Naming name_x (Named name_s)) s.NoBlock (s.Then 2 (s.Pose (record { opened = []; facts = ((Rel relation.Eq (Named name_x) (Named name_x)) ∷ []); locals = []; items = ((Data (Named name_s) (Named name_v) (Named name_k)) ∷ []) }) ([]) ([])) (s.WithBlock (s.Then 3 (s.Subst name_x) s.NoBlock (s.Then 4 (s.Meet ([]) ([])) s.NoBlock s.End)) s.NoBlock) (s.Then 5 (s.Return ([]) ([]) ([])) s.NoBlock s.End))) ≡ (RefusedAt 3 27 8)
unfolding computing
edges_97 = refl

edges_98 : body_verdict (record { predicates = ([]); specs = ((record { is_void = true; name = name_f; params = (name_p ∷ []); vars = ((name_s, sort.Int) ∷ (name_t, sort.Int) ∷ (name_v, sort.Val) ∷ (name_w, sort.Val) ∷ (name_k, sort.List) ∷ (name_m, sort.List) ∷ []); pre = (record { opened = []; facts = ([]); locals = []; items = ((Data (Var 0 sort.Int) (Var 2 sort.Val) (Var 4 sort.List)) ∷ []) }); post = (record { opened = []; facts = ([]); locals = []; items = ((Data (Var 0 sort.Int) (Var 2 sort.Val) (Var 4 sort.List)) ∷ []) }) }) ∷ []) }) (record { is_void = true; name = name_f; params = (name_p ∷ []); vars = ((name_s, sort.Int) ∷ (name_t, sort.Int) ∷ (name_v, sort.Val) ∷ (name_w, sort.Val) ∷ (name_k, sort.List) ∷ (name_m, sort.List) ∷ []); pre = (record { opened = []; facts = ([]); locals = []; items = ((Data (Var 0 sort.Int) (Var 2 sort.Val) (Var 4 sort.List)) ∷ []) }); post = (record { opened = []; facts = ([]); locals = []; items = ((Data (Var 0 sort.Int) (Var 2 sort.Val) (Var 4 sort.List)) ∷ []) }) }) (record { temps = (name_p ∷ []); body = (c.Then (c.Return None) c.End) }) (s.Then 1 (s.Naming name_x (Named name_s)) s.NoBlock (s.Then 2 (s.Naming name_y (Named name_t)) s.NoBlock (s.Then 3 (s.Have (Rel relation.Eq (Named name_x) (Named name_x)) ([])) s.NoBlock (s.Then 4 (s.Forget (forgotten.Prop 2)) s.NoBlock (s.Then 5 (s.Pose (record { opened = []; facts = ([]); locals = []; items = ((Data (Named name_s) (Named name_v) (Named name_k)) ∷ []) }) ([]) ([])) (s.WithBlock (s.Then 6 (s.Subst name_x) s.NoBlock (s.Then 7 (s.Meet ([]) ([])) s.NoBlock s.End)) s.NoBlock) (s.Then 8 (s.Subst name_y) s.NoBlock (s.Then 9 (s.Subst name_x) s.NoBlock (s.Then 10 (s.Return ([]) ([]) ([])) s.NoBlock s.End)))))))) ≡ Accepted
unfolding computing
edges_98 = refl

edges_99 : body_verdict (record { predicates = ([]); specs = ((record { is_void = true; name = name_f; params = (name_p ∷ []); vars = ((name_s, sort.Int) ∷ (name_t, sort.Int) ∷ (name_v, sort.Val) ∷ (name_w, sort.Val) ∷ (name_k, sort.List) ∷ (name_m, sort.List) ∷ []); pre = (record { opened = []; facts = ([]); locals = []; items = ((Data (Var 0 sort.Int) (Var 2 sort.Val) (Var 4 sort.List)) ∷ []) }); post = (record { opened = []; facts = ([]); locals = []; items = ((Data (Var 0 sort.Int) (Var 2 sort.Val) (Var 4 sort.List)) ∷ []) }) }) ∷ []) }) (record { is_void = true; name = name_f; params = (name_p ∷ []); vars = ((name_s, sort.Int) ∷ (name_t, sort.Int) ∷ (name_v, sort.Val) ∷ (name_w, sort.Val) ∷ (name_k, sort.List) ∷ (name_m, sort.List) ∷ []); pre = (record { opened = []; facts = ([]); locals = []; items = ((Data (Var 0 sort.Int) (Var 2 sort.Val) (Var 4 sort.List)) ∷ []) }); post = (record { opened = []; facts = ([]); locals = []; items = ((Data (Var 0 sort.Int) (Var 2 sort.Val) (Var 4 sort.List)) ∷ []) }) }) (record { temps = (name_p ∷ []); body = (c.Then (c.Return None) c.End) }) (s.Then 1 (s.Naming name_x (Named name_s)) s.NoBlock (s.Then 2 (s.Have (Rel relation.Eq (Named name_x) (Of2 binary.Add (Named name_s) (Number (pos 0)))) ([])) s.NoBlock (s.Then 3 (s.Subst name_x) s.NoBlock (s.Then 4 (s.Subst name_x) s.NoBlock (s.Then 5 (s.Return ([]) ([]) ([])) s.NoBlock s.End))))) ≡ (RefusedAt 4 27 1)
unfolding computing
edges_99 = refl

edges_100 : body_verdict (record { predicates = ([]); specs = ((record { is_void = true; name = name_f; params = (name_p ∷ []); vars = ((name_s, sort.Int) ∷ (name_t, sort.Int) ∷ (name_v, sort.Val) ∷ (name_w, sort.Val) ∷ (name_k, sort.List) ∷ (name_m, sort.List) ∷ []); pre = (record { opened = []; facts = ([]); locals = []; items = ((Data (Var 0 sort.Int) (Var 2 sort.Val) (Var 4 sort.List)) ∷ []) }); post = (record { opened = []; facts = ([]); locals = []; items = ((Data (Var 0 sort.Int) (Var 2 sort.Val) (Var 4 sort.List)) ∷ []) }) }) ∷ []) }) (record { is_void = true; name = name_f; params = (name_p ∷ []); vars = ((name_s, sort.Int) ∷ (name_t, sort.Int) ∷ (name_v, sort.Val) ∷ (name_w, sort.Val) ∷ (name_k, sort.List) ∷ (name_m, sort.List) ∷ []); pre = (record { opened = []; facts = ([]); locals = []; items = ((Data (Var 0 sort.Int) (Var 2 sort.Val) (Var 4 sort.List)) ∷ []) }); post = (record { opened = []; facts = ([]); locals = []; items = ((Data (Var 0 sort.Int) (Var 2 sort.Val) (Var 4 sort.List)) ∷ []) }) }) (record { temps = (name_p ∷ []); body = (c.Then (c.Return None) c.End) }) (s.Then 1 (s.Subst name_z) s.NoBlock (s.Then 2 (s.Return ([]) ([]) ([])) s.NoBlock s.End)) ≡ (RefusedAt 1 27 1)
unfolding computing
edges_100 = refl
