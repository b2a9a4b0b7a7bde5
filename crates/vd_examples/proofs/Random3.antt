-- Random works.
use Rattle.std.specs.Prelude.{◌≡◌, refl, pos, [], ◌∷◌, true, false, Some, None}
use Rattle.vd_terms.specs.Terms.{Number, Var, Named, Global, Nil, Of, Of2}
use Rattle.vd_terms.specs.declared.assertion.FactOf.TheVariants.{Rel, IsInt}
use Rattle.vd_terms.specs.declared.assertion.ItemOf.TheVariants.{Data}
use Rattle.vd_rules.specs.Computing.{computing}
use Rattle.vd_rules.specs.Verdicts.{Accepted, RefusedAt, body_verdict}
use Rattle.vd_terms.specs.declared.operation.Unary.TheVariants as unary
use Rattle.vd_terms.specs.declared.operation.Binary.TheVariants as binary
use Rattle.vd_logic.specs.declared.term.Sort.TheVariants as sort
use Rattle.vd_logic.specs.declared.assertion.Rel.TheVariants as relation
use Rattle.vd_logic.specs.declared.step.CertLine.TheVariants as line
use Rattle.vd_logic.specs.declared.step.Occurrence.TheVariants as occurrence
use Rattle.vd_logic.specs.declared.step.Forgotten.TheVariants as forgotten
use Rattle.vd_clight.specs.declared.syntax.UnOp.TheVariants as one
use Rattle.vd_clight.specs.declared.syntax.BinOp.TheVariants as two
use Rattle.vd_clight.specs.declared.typed.Kind.TheVariants as kind
use Rattle.vd_clight.specs.declared.typed.Root.TheVariants as root
use Rattle.vd_steps.specs.Code as c
use Rattle.vd_steps.specs.Script as s
use Rattle.vd_examples.specs.Names.{name_E, name_a, name_a0, name_a1, name_a2, name_arr, name_b1, name_b2, name_d0, name_e0, name_f, name_g, name_get, name_h0, name_h1, name_i, name_k, name_k1, name_k2, name_k3, name_k4, name_k5, name_l0, name_len_pos, name_main, name_n, name_n0, name_n1, name_n2, name_o, name_o1, name_p, name_p1, name_p10, name_pos, name_put, name_q0, name_q1, name_r0, name_s, name_s0, name_s1, name_t, name_u1, name_u2, name_v, name_v1, name_w, name_w0, name_w1, name_x, name_x1, name_zz}

random_201 : body_verdict (record { predicates = ((record { name = name_E; args = ([]); cases = ((record { opened = []; facts = ([]); locals = []; items = ([]) }) ∷ []) }) ∷ []); specs = ((record { is_void = true; name = name_put; params = (name_p ∷ name_k ∷ []); vars = ((name_v, sort.Val) ∷ (name_w, sort.Val) ∷ (name_o, sort.Val) ∷ []); pre = (record { opened = []; facts = ([]); locals = ((name_p, (Var 0 sort.Val)) ∷ (name_k, (Var 1 sort.Val)) ∷ []); items = ((Data (Number (pos 64)) (Var 0 sort.Val) (Of2 binary.Cons (Var 2 sort.Val) Nil)) ∷ []) }); post = (record { opened = []; facts = ([]); locals = []; items = ((Data (Number (pos 64)) (Var 0 sort.Val) (Of2 binary.Cons (Var 1 sort.Val) Nil)) ∷ []) }) }) ∷ (record { is_void = false; name = name_main; params = ([]); vars = []; pre = (record { opened = []; facts = ([]); locals = []; items = ((Data (Number (pos 64)) (Global name_g) (Of2 binary.Cons (Of unary.Vi (Number (pos 3))) Nil)) ∷ []) }); post = (record { opened = []; facts = ((Rel relation.Eq (Var 0 sort.Val) (Of unary.Vi (Number (pos 5)))) ∷ []); locals = []; items = ((Data (Number (pos 64)) (Global name_g) (Of2 binary.Cons (Of unary.Vi (Number (pos 3))) Nil)) ∷ []) }) }) ∷ []) }) (record { is_void = false; name = name_main; params = ([]); vars = []; pre = (record { opened = []; facts = ([]); locals = []; items = ((Data (Number (pos 64)) (Global name_g) (Of2 binary.Cons (Of unary.Vi (Number (pos 3))) Nil)) ∷ []) }); post = (record { opened = []; facts = ((Rel relation.Eq (Var 0 sort.Val) (Of unary.Vi (Number (pos 5)))) ∷ []); locals = []; items = ((Data (Number (pos 64)) (Global name_g) (Of2 binary.Cons (Of unary.Vi (Number (pos 3))) Nil)) ∷ []) }) }) (record { temps = (name_s ∷ name_t ∷ name_i ∷ name_x1 ∷ name_d0 ∷ name_p1 ∷ name_q1 ∷ []); body = (c.Then (c.Set 0 (c.Const 1)) (c.Then (c.Set 1 (c.Const 3)) (c.Then (c.Set 0 (c.Const 5)) (c.Then (c.Set 1 (c.Binary two.Mul kind.Signed (c.Const 3) (c.Binary two.Div kind.Signed (c.Temp 1) (c.Temp 1)))) (c.Then (c.Set 4 (c.Binary two.Add kind.Signed (c.Binary two.Add kind.Signed (c.Const 3) (c.Const 2)) (c.Const 1))) (c.Then (c.Call None name_put ((c.Address (root.Global name_g 1) c.Here) ∷ (c.Const 3) ∷ [])) (c.Then (c.Load 1 (root.Global name_g 1) c.Here) (c.Then (c.Set 3 (c.Const 7)) (c.Then (c.Return (Some (c.Temp 0))) c.End))))))))) }) (s.Then 1 (s.Set ([]) ([])) s.NoBlock (s.Then 2 (s.Set ([]) ([])) s.NoBlock (s.Then 3 (s.Set ([]) ([])) s.NoBlock (s.Then 4 (s.Set ([]) ([])) s.NoBlock (s.Then 5 (s.Set ([]) ([])) s.NoBlock (s.Then 6 (s.Call ((Global name_g) ∷ (Of unary.Vi (Number (pos 3))) ∷ (Of unary.Vi (Number (pos 3))) ∷ []) ([]) ([]) ([])) s.NoBlock (s.Then 7 (s.Load 0 ([]) ([])) s.NoBlock (s.Then 8 (s.Set ([]) ([])) s.NoBlock (s.Then 9 (s.Break ([]) ([])) s.NoBlock s.End))))))))) ≡ (RefusedAt 9 7 1)
unfolding computing
random_201 = refl

random_202 : body_verdict (record { predicates = ((record { name = name_E; args = ([]); cases = ((record { opened = []; facts = ([]); locals = []; items = ([]) }) ∷ []) }) ∷ []); specs = ((record { is_void = true; name = name_put; params = (name_p ∷ name_k ∷ []); vars = ((name_v, sort.Val) ∷ (name_w, sort.Val) ∷ (name_o, sort.Val) ∷ []); pre = (record { opened = []; facts = ([]); locals = ((name_p, (Var 0 sort.Val)) ∷ (name_k, (Var 1 sort.Val)) ∷ []); items = ((Data (Number (pos 64)) (Var 0 sort.Val) (Of2 binary.Cons (Var 2 sort.Val) Nil)) ∷ []) }); post = (record { opened = []; facts = ([]); locals = []; items = ((Data (Number (pos 64)) (Var 0 sort.Val) (Of2 binary.Cons (Var 1 sort.Val) Nil)) ∷ []) }) }) ∷ (record { is_void = false; name = name_main; params = ([]); vars = []; pre = (record { opened = []; facts = ([]); locals = []; items = ((Data (Number (pos 64)) (Global name_g) (Of2 binary.Cons (Of unary.Vi (Number (pos 3))) Nil)) ∷ []) }); post = (record { opened = []; facts = ((Rel relation.Eq (Var 0 sort.Val) (Of unary.Vi (Number (pos 5)))) ∷ []); locals = []; items = ((Data (Number (pos 64)) (Global name_g) (Of2 binary.Cons (Of unary.Vi (Number (pos 3))) Nil)) ∷ []) }) }) ∷ []) }) (record { is_void = false; name = name_main; params = ([]); vars = []; pre = (record { opened = []; facts = ([]); locals = []; items = ((Data (Number (pos 64)) (Global name_g) (Of2 binary.Cons (Of unary.Vi (Number (pos 3))) Nil)) ∷ []) }); post = (record { opened = []; facts = ((Rel relation.Eq (Var 0 sort.Val) (Of unary.Vi (Number (pos 5)))) ∷ []); locals = []; items = ((Data (Number (pos 64)) (Global name_g) (Of2 binary.Cons (Of unary.Vi (Number (pos 3))) Nil)) ∷ []) }) }) (record { temps = (name_s ∷ name_t ∷ name_i ∷ name_x1 ∷ name_d0 ∷ name_p1 ∷ name_q1 ∷ []); body = (c.Then (c.Set 0 (c.Const 1)) (c.Then (c.Set 1 (c.Const 3)) (c.Then (c.Set 0 (c.Const 5)) (c.Then (c.Set 1 (c.Binary two.Mul kind.Signed (c.Const 3) (c.Binary two.Div kind.Signed (c.Temp 1) (c.Temp 1)))) (c.Then (c.Set 4 (c.Binary two.Add kind.Signed (c.Binary two.Add kind.Signed (c.Const 3) (c.Const 2)) (c.Const 1))) (c.Then (c.Call None name_put ((c.Address (root.Global name_g 1) c.Here) ∷ (c.Const 3) ∷ [])) (c.Then (c.Load 1 (root.Global name_g 1) c.Here) (c.Then (c.Set 3 (c.Const 7)) (c.Then (c.Return (Some (c.Temp 0))) c.End))))))))) }) (s.Then 1 (s.Set ([]) ([])) s.NoBlock (s.Then 2 (s.Set ([]) ([])) s.NoBlock (s.Then 3 (s.Set ([]) ([])) s.NoBlock (s.Then 4 (s.Set ([]) ([])) s.NoBlock (s.Then 5 (s.Set ([]) ([])) s.NoBlock (s.Then 6 (s.Call ((Global name_g) ∷ (Of unary.Vi (Number (pos 3))) ∷ (Of unary.Vi (Number (pos 3))) ∷ []) ([]) ([]) ([])) s.NoBlock (s.Then 7 (s.Set ([]) ([])) s.NoBlock (s.Then 8 (s.Load 0 ([]) ([])) s.NoBlock (s.Then 9 (s.Return ([]) ([]) ([])) s.NoBlock s.End))))))))) ≡ (RefusedAt 7 2 1)
unfolding computing
random_202 = refl

random_203 : body_verdict (record { predicates = ((record { name = name_E; args = ([]); cases = ((record { opened = []; facts = ([]); locals = []; items = ([]) }) ∷ []) }) ∷ []); specs = ((record { is_void = true; name = name_put; params = (name_p ∷ name_k ∷ []); vars = ((name_v, sort.Val) ∷ (name_w, sort.Val) ∷ (name_o, sort.Val) ∷ []); pre = (record { opened = []; facts = ([]); locals = ((name_p, (Var 0 sort.Val)) ∷ (name_k, (Var 1 sort.Val)) ∷ []); items = ((Data (Number (pos 64)) (Var 0 sort.Val) (Of2 binary.Cons (Var 2 sort.Val) Nil)) ∷ []) }); post = (record { opened = []; facts = ([]); locals = []; items = ((Data (Number (pos 64)) (Var 0 sort.Val) (Of2 binary.Cons (Var 1 sort.Val) Nil)) ∷ []) }) }) ∷ (record { is_void = false; name = name_main; params = ([]); vars = []; pre = (record { opened = []; facts = ([]); locals = []; items = ((Data (Number (pos 64)) (Global name_g) (Of2 binary.Cons (Of unary.Vi (Number (pos 3))) Nil)) ∷ []) }); post = (record { opened = []; facts = ((Rel relation.Eq (Var 0 sort.Val) (Of unary.Vi (Number (pos 5)))) ∷ []); locals = []; items = ((Data (Number (pos 64)) (Global name_g) (Of2 binary.Cons (Of unary.Vi (Number (pos 3))) Nil)) ∷ []) }) }) ∷ []) }) (record { is_void = false; name = name_main; params = ([]); vars = []; pre = (record { opened = []; facts = ([]); locals = []; items = ((Data (Number (pos 64)) (Global name_g) (Of2 binary.Cons (Of unary.Vi (Number (pos 3))) Nil)) ∷ []) }); post = (record { opened = []; facts = ((Rel relation.Eq (Var 0 sort.Val) (Of unary.Vi (Number (pos 5)))) ∷ []); locals = []; items = ((Data (Number (pos 64)) (Global name_g) (Of2 binary.Cons (Of unary.Vi (Number (pos 3))) Nil)) ∷ []) }) }) (record { temps = (name_s ∷ name_t ∷ name_i ∷ name_x1 ∷ name_d0 ∷ name_p1 ∷ name_q1 ∷ []); body = (c.Then (c.Set 0 (c.Const 1)) (c.Then (c.Set 1 (c.Const 3)) (c.Then (c.Set 0 (c.Const 5)) (c.Then (c.Set 1 (c.Binary two.Mul kind.Signed (c.Const 3) (c.Binary two.Div kind.Signed (c.Temp 1) (c.Temp 1)))) (c.Then (c.Set 4 (c.Binary two.Add kind.Signed (c.Binary two.Add kind.Signed (c.Const 3) (c.Const 2)) (c.Const 1))) (c.Then (c.Call None name_put ((c.Address (root.Global name_g 1) c.Here) ∷ (c.Const 3) ∷ [])) (c.Then (c.Load 1 (root.Global name_g 1) c.Here) (c.Then (c.Set 3 (c.Const 7)) (c.Then (c.Return (Some (c.Temp 0))) c.End))))))))) }) (s.Then 1 (s.Set ([]) ([])) s.NoBlock (s.Then 2 (s.Set ([]) ([])) s.NoBlock (s.Then 3 (s.Set ([]) ([])) s.NoBlock (s.Then 4 (s.Set ([]) ([])) s.NoBlock (s.Then 5 (s.Set ([]) ([])) s.NoBlock (s.Then 6 (s.Call ((Global name_g) ∷ (Of unary.Vi (Number (pos 0))) ∷ (Of unary.Vi (Number (pos 3))) ∷ []) ([]) ([]) ([])) s.NoBlock (s.Then 7 (s.Load 0 ([]) ([])) s.NoBlock (s.Then 8 (s.Set ([]) ([])) s.NoBlock (s.Then 9 (s.Return ([]) ([]) ([])) s.NoBlock s.End))))))))) ≡ (RefusedAt 6 13 4)
unfolding computing
random_203 = refl

random_204 : body_verdict (record { predicates = ((record { name = name_E; args = ([]); cases = ((record { opened = []; facts = ([]); locals = []; items = ([]) }) ∷ []) }) ∷ []); specs = ((record { is_void = true; name = name_put; params = (name_p ∷ name_k ∷ []); vars = ((name_v, sort.Val) ∷ (name_w, sort.Val) ∷ (name_o, sort.Val) ∷ []); pre = (record { opened = []; facts = ([]); locals = ((name_p, (Var 0 sort.Val)) ∷ (name_k, (Var 1 sort.Val)) ∷ []); items = ((Data (Number (pos 64)) (Var 0 sort.Val) (Of2 binary.Cons (Var 2 sort.Val) Nil)) ∷ []) }); post = (record { opened = []; facts = ([]); locals = []; items = ((Data (Number (pos 64)) (Var 0 sort.Val) (Of2 binary.Cons (Var 1 sort.Val) Nil)) ∷ []) }) }) ∷ (record { is_void = false; name = name_main; params = ([]); vars = []; pre = (record { opened = []; facts = ([]); locals = []; items = ((Data (Number (pos 64)) (Global name_g) (Of2 binary.Cons (Of unary.Vi (Number (pos 3))) Nil)) ∷ []) }); post = (record { opened = []; facts = ((Rel relation.Eq (Var 0 sort.Val) (Of unary.Vi (Number (pos 5)))) ∷ []); locals = []; items = ((Data (Number (pos 64)) (Global name_g) (Of2 binary.Cons (Of unary.Vi (Number (pos 3))) Nil)) ∷ []) }) }) ∷ []) }) (record { is_void = false; name = name_main; params = ([]); vars = []; pre = (record { opened = []; facts = ([]); locals = []; items = ((Data (Number (pos 64)) (Global name_g) (Of2 binary.Cons (Of unary.Vi (Number (pos 3))) Nil)) ∷ []) }); post = (record { opened = []; facts = ((Rel relation.Eq (Var 0 sort.Val) (Of unary.Vi (Number (pos 5)))) ∷ []); locals = []; items = ((Data (Number (pos 64)) (Global name_g) (Of2 binary.Cons (Of unary.Vi (Number (pos 3))) Nil)) ∷ []) }) }) (record { temps = (name_s ∷ name_t ∷ name_i ∷ name_x1 ∷ name_d0 ∷ name_p1 ∷ name_q1 ∷ []); body = (c.Then (c.Set 0 (c.Const 1)) (c.Then (c.Set 1 (c.Const 3)) (c.Then (c.Set 0 (c.Const 5)) (c.Then (c.Set 1 (c.Binary two.Mul kind.Signed (c.Const 3) (c.Binary two.Div kind.Signed (c.Temp 1) (c.Temp 1)))) (c.Then (c.Set 4 (c.Binary two.Add kind.Signed (c.Binary two.Add kind.Signed (c.Const 3) (c.Const 2)) (c.Const 1))) (c.Then (c.Call None name_put ((c.Address (root.Global name_g 1) c.Here) ∷ (c.Const 3) ∷ [])) (c.Then (c.Load 1 (root.Global name_g 1) c.Here) (c.Then (c.Set 3 (c.Const 7)) (c.Then (c.Return (Some (c.Temp 0))) c.End))))))))) }) (s.Then 1 (s.Set ([]) ([])) s.NoBlock (s.Then 2 (s.Set ([]) ([])) s.NoBlock (s.Then 3 (s.Set ([]) ([])) s.NoBlock (s.Then 4 (s.Set ([]) ([])) s.NoBlock (s.Then 5 (s.Call ((Global name_g) ∷ (Of unary.Vi (Number (pos 3))) ∷ (Of unary.Vi (Number (pos 3))) ∷ []) ([]) ([]) ([])) s.NoBlock (s.Then 6 (s.Load 0 ([]) ([])) s.NoBlock (s.Then 7 (s.Set ([]) ([])) s.NoBlock (s.Then 8 (s.Return ([]) ([]) ([])) s.NoBlock s.End)))))))) ≡ (RefusedAt 5 13 1)
unfolding computing
random_204 = refl

random_205 : body_verdict (record { predicates = ((record { name = name_E; args = ([]); cases = ((record { opened = []; facts = ([]); locals = []; items = ([]) }) ∷ []) }) ∷ []); specs = ((record { is_void = true; name = name_put; params = (name_p ∷ name_k ∷ []); vars = ((name_v, sort.Val) ∷ (name_w, sort.Val) ∷ (name_o, sort.Val) ∷ []); pre = (record { opened = []; facts = ([]); locals = ((name_p, (Var 0 sort.Val)) ∷ (name_k, (Var 1 sort.Val)) ∷ []); items = ((Data (Number (pos 64)) (Var 0 sort.Val) (Of2 binary.Cons (Var 2 sort.Val) Nil)) ∷ []) }); post = (record { opened = []; facts = ([]); locals = []; items = ((Data (Number (pos 64)) (Var 0 sort.Val) (Of2 binary.Cons (Var 1 sort.Val) Nil)) ∷ []) }) }) ∷ (record { is_void = false; name = name_main; params = ([]); vars = []; pre = (record { opened = []; facts = ([]); locals = []; items = ((Data (Number (pos 64)) (Global name_g) (Of2 binary.Cons (Of unary.Vi (Number (pos 3))) Nil)) ∷ []) }); post = (record { opened = []; facts = ((Rel relation.Eq (Var 0 sort.Val) (Of unary.Vi (Number (pos 32)))) ∷ []); locals = []; items = ((Data (Number (pos 64)) (Global name_g) (Of2 binary.Cons (Of unary.Vi (Number (pos 3))) Nil)) ∷ []) }) }) ∷ []) }) (record { is_void = false; name = name_main; params = ([]); vars = []; pre = (record { opened = []; facts = ([]); locals = []; items = ((Data (Number (pos 64)) (Global name_g) (Of2 binary.Cons (Of unary.Vi (Number (pos 3))) Nil)) ∷ []) }); post = (record { opened = []; facts = ((Rel relation.Eq (Var 0 sort.Val) (Of unary.Vi (Number (pos 32)))) ∷ []); locals = []; items = ((Data (Number (pos 64)) (Global name_g) (Of2 binary.Cons (Of unary.Vi (Number (pos 3))) Nil)) ∷ []) }) }) (record { temps = (name_s ∷ name_t ∷ name_i ∷ name_x1 ∷ name_d0 ∷ name_p1 ∷ name_q1 ∷ []); body = (c.Then (c.Set 0 (c.Const 1)) (c.Then (c.Set 1 (c.Const 3)) (c.Then (c.Set 0 (c.Const 5)) (c.Then (c.Set 1 (c.Binary two.Mul kind.Signed (c.Const 3) (c.Binary two.Div kind.Signed (c.Temp 1) (c.Temp 1)))) (c.Then (c.Set 4 (c.Binary two.Add kind.Signed (c.Binary two.Add kind.Signed (c.Const 3) (c.Const 2)) (c.Const 1))) (c.Then (c.Call None name_put ((c.Address (root.Global name_g 1) c.Here) ∷ (c.Const 3) ∷ [])) (c.Then (c.Load 1 (root.Global name_g 1) c.Here) (c.Then (c.Set 3 (c.Const 7)) (c.Then (c.Return (Some (c.Temp 0))) c.End))))))))) }) (s.Then 1 (s.Set ([]) ([])) s.NoBlock (s.Then 2 (s.Set ([]) ([])) s.NoBlock (s.Then 3 (s.Set ([]) ([])) s.NoBlock (s.Then 4 (s.Set ([]) ([])) s.NoBlock (s.Then 5 (s.Set ([]) ([])) s.NoBlock (s.Then 6 (s.Call ((Global name_g) ∷ (Of unary.Vi (Number (pos 3))) ∷ (Of unary.Vi (Number (pos 3))) ∷ []) ([]) ([]) ([])) s.NoBlock (s.Then 7 (s.Load 0 ([]) ([])) s.NoBlock (s.Then 8 (s.Set ([]) ([])) s.NoBlock (s.Then 9 (s.Return ([]) ([]) ([])) s.NoBlock s.End))))))))) ≡ (RefusedAt 9 9 3)
unfolding computing
random_205 = refl

random_206 : body_verdict (record { predicates = ((record { name = name_E; args = ([]); cases = ((record { opened = []; facts = ([]); locals = []; items = ([]) }) ∷ []) }) ∷ []); specs = ((record { is_void = true; name = name_put; params = (name_p ∷ name_k ∷ []); vars = ((name_v, sort.Val) ∷ (name_w, sort.Val) ∷ (name_o, sort.Val) ∷ []); pre = (record { opened = []; facts = ([]); locals = ((name_p, (Var 0 sort.Val)) ∷ (name_k, (Var 1 sort.Val)) ∷ []); items = ((Data (Number (pos 64)) (Var 0 sort.Val) (Of2 binary.Cons (Var 2 sort.Val) Nil)) ∷ []) }); post = (record { opened = []; facts = ([]); locals = []; items = ((Data (Number (pos 64)) (Var 0 sort.Val) (Of2 binary.Cons (Var 1 sort.Val) Nil)) ∷ []) }) }) ∷ (record { is_void = false; name = name_main; params = ([]); vars = []; pre = (record { opened = []; facts = ([]); locals = []; items = ((Data (Number (pos 64)) (Global name_g) (Of2 binary.Cons (Of unary.Vi (Number (pos 3))) Nil)) ∷ []) }); post = (record { opened = []; facts = ((Rel relation.Eq (Var 0 sort.Val) (Of unary.Vi (Number (pos 32)))) ∷ []); locals = []; items = ((Data (Number (pos 64)) (Global name_g) (Of2 binary.Cons (Of unary.Vi (Number (pos 3))) Nil)) ∷ []) }) }) ∷ []) }) (record { is_void = true; name = name_put; params = (name_p ∷ name_k ∷ []); vars = ((name_v, sort.Val) ∷ (name_w, sort.Val) ∷ (name_o, sort.Val) ∷ []); pre = (record { opened = []; facts = ([]); locals = ((name_p, (Var 0 sort.Val)) ∷ (name_k, (Var 1 sort.Val)) ∷ []); items = ((Data (Number (pos 64)) (Var 0 sort.Val) (Of2 binary.Cons (Var 2 sort.Val) Nil)) ∷ []) }); post = (record { opened = []; facts = ([]); locals = []; items = ((Data (Number (pos 64)) (Var 0 sort.Val) (Of2 binary.Cons (Var 1 sort.Val) Nil)) ∷ []) }) }) (record { temps = (name_p ∷ name_k ∷ []); body = (c.Then (c.Store (root.Temp 0) c.Here (c.Temp 1)) (c.Then (c.Return None) c.End)) }) (s.Then 1 (s.Store 0 ([]) ([])) s.NoBlock (s.Then 2 (s.Return ([]) ([]) ([])) s.NoBlock s.End)) ≡ Accepted
unfolding computing
random_206 = refl

random_207 : body_verdict (record { predicates = ((record { name = name_E; args = ([]); cases = ((record { opened = []; facts = ([]); locals = []; items = ([]) }) ∷ []) }) ∷ []); specs = ((record { is_void = true; name = name_put; params = (name_p ∷ name_k ∷ []); vars = ((name_v, sort.Val) ∷ (name_w, sort.Val) ∷ (name_o, sort.Val) ∷ []); pre = (record { opened = []; facts = ([]); locals = ((name_p, (Var 0 sort.Val)) ∷ (name_k, (Var 1 sort.Val)) ∷ []); items = ((Data (Number (pos 64)) (Var 0 sort.Val) (Of2 binary.Cons (Var 2 sort.Val) Nil)) ∷ []) }); post = (record { opened = []; facts = ([]); locals = []; items = ((Data (Number (pos 64)) (Var 0 sort.Val) (Of2 binary.Cons (Var 1 sort.Val) Nil)) ∷ []) }) }) ∷ (record { is_void = false; name = name_main; params = ([]); vars = []; pre = (record { opened = []; facts = ([]); locals = []; items = ((Data (Number (pos 64)) (Global name_g) (Of2 binary.Cons (Of unary.Vi (Number (pos 1))) Nil)) ∷ []) }); post = (record { opened = []; facts = ((Rel relation.Eq (Var 0 sort.Val) (Of unary.Vi (Number (pos 5)))) ∷ []); locals = []; items = ((Data (Number (pos 64)) (Global name_g) (Of2 binary.Cons (Of unary.Vi (Number (pos 3))) Nil)) ∷ []) }) }) ∷ []) }) (record { is_void = false; name = name_main; params = ([]); vars = []; pre = (record { opened = []; facts = ([]); locals = []; items = ((Data (Number (pos 64)) (Global name_g) (Of2 binary.Cons (Of unary.Vi (Number (pos 1))) Nil)) ∷ []) }); post = (record { opened = []; facts = ((Rel relation.Eq (Var 0 sort.Val) (Of unary.Vi (Number (pos 5)))) ∷ []); locals = []; items = ((Data (Number (pos 64)) (Global name_g) (Of2 binary.Cons (Of unary.Vi (Number (pos 3))) Nil)) ∷ []) }) }) (record { temps = (name_s ∷ name_t ∷ name_i ∷ name_x1 ∷ name_d0 ∷ name_p1 ∷ name_q1 ∷ []); body = (c.Then (c.Set 0 (c.Const 1)) (c.Then (c.Set 1 (c.Const 3)) (c.Then (c.Set 0 (c.Const 5)) (c.Then (c.Set 1 (c.Binary two.Mul kind.Signed (c.Const 3) (c.Binary two.Div kind.Signed (c.Temp 1) (c.Temp 1)))) (c.Then (c.Set 4 (c.Binary two.Add kind.Signed (c.Binary two.Add kind.Signed (c.Const 3) (c.Const 2)) (c.Const 1))) (c.Then (c.Call None name_put ((c.Address (root.Global name_g 1) c.Here) ∷ (c.Const 3) ∷ [])) (c.Then (c.Load 1 (root.Global name_g 1) c.Here) (c.Then (c.Set 3 (c.Const 7)) (c.Then (c.Return (Some (c.Temp 0))) c.End))))))))) }) (s.Then 1 (s.Set ([]) ([])) s.NoBlock (s.Then 2 (s.Set ([]) ([])) s.NoBlock (s.Then 3 (s.Set ([]) ([])) s.NoBlock (s.Then 4 (s.Set ([]) ([])) s.NoBlock (s.Then 5 (s.Set ([]) ([])) s.NoBlock (s.Then 6 (s.Call ((Global name_g) ∷ (Of unary.Vi (Number (pos 3))) ∷ (Of unary.Vi (Number (pos 3))) ∷ []) ([]) ([]) ([])) s.NoBlock (s.Then 7 (s.Load 0 ([]) ([])) s.NoBlock (s.Then 8 (s.Set ([]) ([])) s.NoBlock (s.Then 9 (s.Return ([]) ([]) ([])) s.NoBlock s.End))))))))) ≡ (RefusedAt 6 13 5)
unfolding computing
random_207 = refl

random_208 : body_verdict (record { predicates = ((record { name = name_E; args = ([]); cases = ((record { opened = []; facts = ([]); locals = []; items = ([]) }) ∷ []) }) ∷ []); specs = ((record { is_void = true; name = name_put; params = (name_p ∷ name_k ∷ []); vars = ((name_v, sort.Val) ∷ (name_w, sort.Val) ∷ (name_o, sort.Val) ∷ []); pre = (record { opened = []; facts = ([]); locals = ((name_p, (Var 0 sort.Val)) ∷ (name_k, (Var 1 sort.Val)) ∷ []); items = ((Data (Number (pos 64)) (Var 0 sort.Val) (Of2 binary.Cons (Var 2 sort.Val) Nil)) ∷ []) }); post = (record { opened = []; facts = ([]); locals = []; items = ((Data (Number (pos 64)) (Var 0 sort.Val) (Of2 binary.Cons (Var 1 sort.Val) Nil)) ∷ []) }) }) ∷ (record { is_void = false; name = name_main; params = ([]); vars = []; pre = (record { opened = []; facts = ([]); locals = []; items = ((Data (Number (pos 64)) (Global name_g) (Of2 binary.Cons (Of unary.Vi (Number (pos 3))) Nil)) ∷ []) }); post = (record { opened = []; facts = ((Rel relation.Eq (Var 0 sort.Val) (Of unary.Vi (Number (pos 5)))) ∷ []); locals = []; items = ((Data (Number (pos 64)) (Global name_g) (Of2 binary.Cons (Of unary.Vi (Number (pos 3))) Nil)) ∷ []) }) }) ∷ []) }) (record { is_void = false; name = name_main; params = ([]); vars = []; pre = (record { opened = []; facts = ([]); locals = []; items = ((Data (Number (pos 64)) (Global name_g) (Of2 binary.Cons (Of unary.Vi (Number (pos 3))) Nil)) ∷ []) }); post = (record { opened = []; facts = ((Rel relation.Eq (Var 0 sort.Val) (Of unary.Vi (Number (pos 5)))) ∷ []); locals = []; items = ((Data (Number (pos 64)) (Global name_g) (Of2 binary.Cons (Of unary.Vi (Number (pos 3))) Nil)) ∷ []) }) }) (record { temps = (name_s ∷ name_t ∷ name_i ∷ name_x1 ∷ name_d0 ∷ name_p1 ∷ name_q1 ∷ []); body = (c.Then (c.Set 0 (c.Const 1)) (c.Then (c.Set 1 (c.Const 3)) (c.Then (c.Set 0 (c.Const 5)) (c.Then (c.Set 1 (c.Binary two.Mul kind.Signed (c.Const 3) (c.Binary two.Div kind.Signed (c.Temp 1) (c.Temp 1)))) (c.Then (c.Set 4 (c.Binary two.Add kind.Signed (c.Binary two.Add kind.Signed (c.Const 3) (c.Const 2)) (c.Const 1))) (c.Then (c.Call None name_put ((c.Address (root.Global name_g 1) c.Here) ∷ (c.Const 3) ∷ [])) (c.Then (c.Load 1 (root.Global name_g 1) c.Here) (c.Then (c.Set 3 (c.Const 7)) (c.Then (c.Return (Some (c.Temp 0))) c.End))))))))) }) (s.Then 1 (s.Set ([]) ([])) s.NoBlock (s.Then 2 (s.Set ([]) ([])) s.NoBlock (s.Then 3 (s.Set ([]) ([])) s.NoBlock (s.Then 4 (s.Set ([]) ([])) s.NoBlock (s.Then 5 (s.Set ([]) ([])) s.NoBlock (s.Then 6 (s.Call ((Global name_g) ∷ (Of unary.Vi (Number (pos 3))) ∷ (Of unary.Vi (Number (pos 3))) ∷ []) ([]) ([]) ([])) s.NoBlock (s.Then 7 (s.Load 4 ([]) ([])) s.NoBlock (s.Then 8 (s.Set ([]) ([])) s.NoBlock (s.Then 9 (s.Return ([]) ([]) ([])) s.NoBlock s.End))))))))) ≡ (RefusedAt 7 3 1)
unfolding computing
random_208 = refl

random_209 : body_verdict (record { predicates = ((record { name = name_E; args = ([]); cases = ((record { opened = []; facts = ([]); locals = []; items = ([]) }) ∷ []) }) ∷ []); specs = ((record { is_void = true; name = name_put; params = (name_p ∷ name_k ∷ []); vars = ((name_v, sort.Val) ∷ (name_w, sort.Val) ∷ (name_o, sort.Val) ∷ []); pre = (record { opened = []; facts = ([]); locals = ((name_p, (Var 0 sort.Val)) ∷ (name_k, (Var 1 sort.Val)) ∷ []); items = ((Data (Number (pos 64)) (Var 0 sort.Val) (Of2 binary.Cons (Var 2 sort.Val) Nil)) ∷ []) }); post = (record { opened = []; facts = ([]); locals = []; items = ((Data (Number (pos 64)) (Var 0 sort.Val) (Of2 binary.Cons (Var 1 sort.Val) Nil)) ∷ []) }) }) ∷ (record { is_void = false; name = name_main; params = ([]); vars = []; pre = (record { opened = []; facts = ([]); locals = []; items = ((Data (Number (pos 64)) (Global name_g) (Of2 binary.Cons (Of unary.Vi (Number (pos 3))) Nil)) ∷ []) }); post = (record { opened = []; facts = ((Rel relation.Eq (Var 0 sort.Val) (Of unary.Vi (Number (pos 5)))) ∷ []); locals = []; items = ((Data (Number (pos 64)) (Global name_g) (Of2 binary.Cons (Of unary.Vi (Number (pos 3))) Nil)) ∷ []) }) }) ∷ []) }) (record { is_void = false; name = name_main; params = ([]); vars = []; pre = (record { opened = []; facts = ([]); locals = []; items = ((Data (Number (pos 64)) (Global name_g) (Of2 binary.Cons (Of unary.Vi (Number (pos 3))) Nil)) ∷ []) }); post = (record { opened = []; facts = ((Rel relation.Eq (Var 0 sort.Val) (Of unary.Vi (Number (pos 5)))) ∷ []); locals = []; items = ((Data (Number (pos 64)) (Global name_g) (Of2 binary.Cons (Of unary.Vi (Number (pos 3))) Nil)) ∷ []) }) }) (record { temps = (name_s ∷ name_t ∷ name_i ∷ name_x1 ∷ name_d0 ∷ name_p1 ∷ name_q1 ∷ []); body = (c.Then (c.Set 0 (c.Const 1)) (c.Then (c.Set 1 (c.Const 3)) (c.Then (c.Set 0 (c.Const 5)) (c.Then (c.Set 1 (c.Binary two.Mul kind.Signed (c.Const 3) (c.Binary two.Div kind.Signed (c.Temp 1) (c.Temp 1)))) (c.Then (c.Set 4 (c.Binary two.Add kind.Signed (c.Binary two.Add kind.Signed (c.Const 3) (c.Const 2)) (c.Const 1))) (c.Then (c.Call None name_put ((c.Address (root.Global name_g 1) c.Here) ∷ (c.Const 3) ∷ [])) (c.Then (c.Load 1 (root.Global name_g 1) c.Here) (c.Then (c.Set 3 (c.Const 7)) (c.Then (c.Return (Some (c.Temp 0))) c.End))))))))) }) (s.Then 1 (s.Set ([]) ([])) s.NoBlock (s.Then 2 (s.Set ([]) ([])) s.NoBlock (s.Then 3 (s.Load 0 ([]) ([])) s.NoBlock (s.Then 4 (s.Set ([]) ([])) s.NoBlock (s.Then 5 (s.Set ([]) ([])) s.NoBlock (s.Then 6 (s.Call ((Global name_g) ∷ (Of unary.Vi (Number (pos 3))) ∷ (Of unary.Vi (Number (pos 3))) ∷ []) ([]) ([]) ([])) s.NoBlock (s.Then 7 (s.Set ([]) ([])) s.NoBlock (s.Then 8 (s.Set ([]) ([])) s.NoBlock (s.Then 9 (s.Return ([]) ([]) ([])) s.NoBlock s.End))))))))) ≡ (RefusedAt 3 3 1)
unfolding computing
random_209 = refl

random_210 : body_verdict (record { predicates = ([]); specs = ((record { is_void = false; name = name_main; params = ([]); vars = []; pre = (record { opened = []; facts = ([]); locals = []; items = ([]) }); post = (record { opened = []; facts = ((IsInt (Var 0 sort.Val)) ∷ []); locals = []; items = ([]) }) }) ∷ []) }) (record { is_void = false; name = name_main; params = ([]); vars = []; pre = (record { opened = []; facts = ([]); locals = []; items = ([]) }); post = (record { opened = []; facts = ((IsInt (Var 0 sort.Val)) ∷ []); locals = []; items = ([]) }) }) (record { temps = (name_s ∷ name_t ∷ name_i ∷ name_x1 ∷ name_d0 ∷ name_p1 ∷ name_q1 ∷ []); body = (c.Then (c.Set 0 (c.Const 2)) (c.Then (c.Set 1 (c.Const 2)) (c.Then (c.If (c.Nonzero kind.Signed (c.Binary two.Le kind.Signed (c.Const 1) (c.Const 5))) (c.Then (c.Set 0 (c.Binary two.Add kind.Signed (c.Const 1) (c.Const 1))) (c.Then (c.Set 0 (c.Binary two.Lt kind.Signed (c.Const 3) (c.Binary two.Sub kind.Signed (c.Temp 0) (c.Temp 1)))) c.End)) c.End) (c.Then (c.Set 0 (c.Binary two.Add kind.Signed (c.Const 2) (c.Const 1))) (c.Then (c.Set 0 (c.Const 3)) (c.Then (c.Return (Some (c.Const 7))) c.End)))))) }) (s.Then 1 (s.Set ([]) ([])) s.NoBlock (s.Then 2 (s.Set ([]) ([])) s.NoBlock (s.Then 3 (s.If ([]) ([]) ([]) ([])) (s.WithBlock (s.Then 4 (s.Set ([]) ([])) s.NoBlock (s.Then 5 (s.Set ([]) ([])) s.NoBlock (s.Then 6 (s.Set ([]) ([])) s.NoBlock (s.Then 7 (s.Law name_len_pos (Nil ∷ []) ([])) s.NoBlock (s.Then 8 (s.Set ([]) ([])) s.NoBlock (s.Then 9 (s.Return ([]) ([]) ([])) s.NoBlock s.End)))))) (s.WithBlock (s.Then 10 (s.Absurd ([])) s.NoBlock s.End) s.NoBlock)) s.End))) ≡ Accepted
unfolding computing
random_210 = refl

random_211 : body_verdict (record { predicates = ([]); specs = ((record { is_void = false; name = name_main; params = ([]); vars = []; pre = (record { opened = []; facts = ([]); locals = []; items = ([]) }); post = (record { opened = []; facts = ((IsInt (Var 0 sort.Val)) ∷ []); locals = []; items = ([]) }) }) ∷ []) }) (record { is_void = false; name = name_main; params = ([]); vars = []; pre = (record { opened = []; facts = ([]); locals = []; items = ([]) }); post = (record { opened = []; facts = ((IsInt (Var 0 sort.Val)) ∷ []); locals = []; items = ([]) }) }) (record { temps = (name_s ∷ name_t ∷ name_i ∷ name_x1 ∷ name_d0 ∷ name_p1 ∷ name_q1 ∷ []); body = (c.Then (c.Set 0 (c.Const 2)) (c.Then (c.Set 1 (c.Const 2)) (c.Then (c.If (c.Nonzero kind.Signed (c.Binary two.Le kind.Signed (c.Const 1) (c.Const 5))) (c.Then (c.Set 0 (c.Binary two.Add kind.Signed (c.Const 1) (c.Const 1))) (c.Then (c.Set 0 (c.Binary two.Lt kind.Signed (c.Const 3) (c.Binary two.Sub kind.Signed (c.Temp 0) (c.Temp 1)))) c.End)) c.End) (c.Then (c.Set 0 (c.Binary two.Add kind.Signed (c.Const 2) (c.Const 1))) (c.Then (c.Set 0 (c.Const 3)) (c.Then (c.Return (Some (c.Const 7))) c.End)))))) }) (s.Then 1 (s.Set ([]) ([])) s.NoBlock (s.Then 2 (s.Set ([]) ([])) s.NoBlock (s.Then 3 (s.If ([]) ([]) ([]) ([])) (s.WithBlock (s.Then 4 (s.Set ([]) ([])) s.NoBlock (s.Then 5 (s.Set ([]) ([])) s.NoBlock (s.Then 6 (s.Law name_len_pos (Nil ∷ []) ([])) s.NoBlock (s.Then 7 (s.Set ([]) ([])) s.NoBlock (s.Then 8 (s.Set ([]) ([])) s.NoBlock (s.Then 9 (s.Return ([]) ([]) ([])) s.NoBlock s.End)))))) (s.WithBlock (s.Then 10 (s.Absurd ([])) s.NoBlock s.End) s.NoBlock)) s.End))) ≡ Accepted
unfolding computing
random_211 = refl

random_212 : body_verdict (record { predicates = ([]); specs = ((record { is_void = false; name = name_main; params = ([]); vars = []; pre = (record { opened = []; facts = ([]); locals = []; items = ([]) }); post = (record { opened = []; facts = ((IsInt (Var 0 sort.Val)) ∷ []); locals = []; items = ([]) }) }) ∷ []) }) (record { is_void = false; name = name_main; params = ([]); vars = []; pre = (record { opened = []; facts = ([]); locals = []; items = ([]) }); post = (record { opened = []; facts = ((IsInt (Var 0 sort.Val)) ∷ []); locals = []; items = ([]) }) }) (record { temps = (name_s ∷ name_t ∷ name_i ∷ name_x1 ∷ name_d0 ∷ name_p1 ∷ name_q1 ∷ []); body = (c.Then (c.Set 0 (c.Const 2)) (c.Then (c.Set 1 (c.Const 2)) (c.Then (c.If (c.Nonzero kind.Signed (c.Binary two.Le kind.Signed (c.Const 1) (c.Const 5))) (c.Then (c.Set 0 (c.Binary two.Add kind.Signed (c.Const 1) (c.Const 1))) (c.Then (c.Set 0 (c.Binary two.Lt kind.Signed (c.Const 3) (c.Binary two.Sub kind.Signed (c.Temp 0) (c.Temp 1)))) c.End)) c.End) (c.Then (c.Set 0 (c.Binary two.Add kind.Signed (c.Const 2) (c.Const 1))) (c.Then (c.Set 0 (c.Const 3)) (c.Then (c.Return (Some (c.Const 7))) c.End)))))) }) (s.Then 1 (s.Set ([]) ([])) s.NoBlock (s.Then 2 (s.Set ([]) ([])) s.NoBlock (s.Then 3 (s.If ([]) ([]) ([]) ([])) (s.WithBlock (s.Then 4 (s.Set ([]) ([])) s.NoBlock (s.Then 5 (s.Set ([]) ([])) s.NoBlock (s.Then 6 (s.Set ([]) ([])) s.NoBlock (s.Then 7 (s.Law name_len_pos (Nil ∷ []) ([])) s.NoBlock (s.Then 8 (s.Set ([]) ([])) s.NoBlock (s.Then 9 (s.Return ([]) ([]) ([])) s.NoBlock (s.Then 10 (s.Return ([]) ([]) ([])) s.NoBlock s.End))))))) (s.WithBlock (s.Then 11 (s.Absurd ([])) s.NoBlock s.End) s.NoBlock)) s.End))) ≡ (RefusedAt 10 0 11)
unfolding computing
random_212 = refl

random_213 : body_verdict (record { predicates = ([]); specs = ((record { is_void = false; name = name_main; params = ([]); vars = []; pre = (record { opened = []; facts = ([]); locals = []; items = ([]) }); post = (record { opened = []; facts = ((IsInt (Var 0 sort.Val)) ∷ []); locals = []; items = ([]) }) }) ∷ []) }) (record { is_void = false; name = name_main; params = ([]); vars = []; pre = (record { opened = []; facts = ([]); locals = []; items = ([]) }); post = (record { opened = []; facts = ((IsInt (Var 0 sort.Val)) ∷ []); locals = []; items = ([]) }) }) (record { temps = (name_s ∷ name_t ∷ name_i ∷ name_x1 ∷ name_d0 ∷ name_p1 ∷ name_q1 ∷ []); body = (c.Then (c.Set 0 (c.Const 2)) (c.Then (c.Set 1 (c.Const 2)) (c.Then (c.If (c.Nonzero kind.Signed (c.Binary two.Le kind.Signed (c.Const 1) (c.Const 5))) (c.Then (c.Set 0 (c.Binary two.Add kind.Signed (c.Const 1) (c.Const 1))) (c.Then (c.Set 0 (c.Binary two.Lt kind.Signed (c.Const 3) (c.Binary two.Sub kind.Signed (c.Temp 0) (c.Temp 1)))) c.End)) c.End) (c.Then (c.Set 0 (c.Binary two.Add kind.Signed (c.Const 2) (c.Const 1))) (c.Then (c.Set 0 (c.Const 3)) (c.Then (c.Return (Some (c.Const 7))) c.End)))))) }) (s.Then 1 (s.Set ([]) ([])) s.NoBlock (s.Then 2 (s.Set ([]) ([])) s.NoBlock (s.Then 3 (s.Set ([]) ([])) s.NoBlock (s.Then 4 (s.If ([]) ([]) ([]) ([])) (s.WithBlock (s.Then 5 (s.Set ([]) ([])) s.NoBlock (s.Then 6 (s.Set ([]) ([])) s.NoBlock (s.Then 7 (s.Set ([]) ([])) s.NoBlock (s.Then 8 (s.Law name_len_pos (Nil ∷ []) ([])) s.NoBlock (s.Then 9 (s.Set ([]) ([])) s.NoBlock (s.Then 10 (s.Return ([]) ([]) ([])) s.NoBlock s.End)))))) (s.WithBlock (s.Then 11 (s.Absurd ([])) s.NoBlock s.End) s.NoBlock)) s.End)))) ≡ (RefusedAt 3 2 1)
unfolding computing
random_213 = refl

random_214 : body_verdict (record { predicates = ([]); specs = ((record { is_void = false; name = name_main; params = ([]); vars = []; pre = (record { opened = []; facts = ([]); locals = []; items = ([]) }); post = (record { opened = []; facts = ((IsInt (Var 0 sort.Val)) ∷ []); locals = []; items = ([]) }) }) ∷ []) }) (record { is_void = false; name = name_main; params = ([]); vars = []; pre = (record { opened = []; facts = ([]); locals = []; items = ([]) }); post = (record { opened = []; facts = ((IsInt (Var 0 sort.Val)) ∷ []); locals = []; items = ([]) }) }) (record { temps = (name_s ∷ name_t ∷ name_i ∷ name_x1 ∷ name_d0 ∷ name_p1 ∷ name_q1 ∷ []); body = (c.Then (c.Set 0 (c.Const 2)) (c.Then (c.Set 1 (c.Const 2)) (c.Then (c.If (c.Nonzero kind.Signed (c.Binary two.Le kind.Signed (c.Const 1) (c.Const 5))) (c.Then (c.Set 0 (c.Binary two.Add kind.Signed (c.Const 1) (c.Const 1))) (c.Then (c.Set 0 (c.Binary two.Lt kind.Signed (c.Const 3) (c.Binary two.Sub kind.Signed (c.Temp 0) (c.Temp 1)))) c.End)) c.End) (c.Then (c.Set 0 (c.Binary two.Add kind.Signed (c.Const 2) (c.Const 1))) (c.Then (c.Set 0 (c.Const 3)) (c.Then (c.Return (Some (c.Const 7))) c.End)))))) }) (s.Then 1 (s.Set ([]) ([])) s.NoBlock (s.Then 2 (s.Set ([]) ([])) s.NoBlock (s.Then 3 (s.If ([]) ([]) ([]) ([])) (s.WithBlock (s.Then 4 (s.Set ([]) ([])) s.NoBlock (s.Then 5 (s.Set ([]) ([])) s.NoBlock (s.Then 6 (s.Set ([]) ([])) s.NoBlock (s.Then 7 (s.Law name_len_pos (Nil ∷ []) ([])) s.NoBlock (s.Then 8 (s.Set ([]) ([])) s.NoBlock (s.Then 9 (s.Return ([]) ([]) ([])) s.NoBlock s.End)))))) (s.WithBlock s.End s.NoBlock)) s.End))) ≡ (RefusedAt 10 0 10)
unfolding computing
random_214 = refl

random_215 : body_verdict (record { predicates = ([]); specs = ((record { is_void = false; name = name_main; params = ([]); vars = []; pre = (record { opened = []; facts = ([]); locals = []; items = ([]) }); post = (record { opened = []; facts = ((IsInt (Var 0 sort.Val)) ∷ []); locals = []; items = ([]) }) }) ∷ []) }) (record { is_void = false; name = name_main; params = ([]); vars = []; pre = (record { opened = []; facts = ([]); locals = []; items = ([]) }); post = (record { opened = []; facts = ((IsInt (Var 0 sort.Val)) ∷ []); locals = []; items = ([]) }) }) (record { temps = (name_s ∷ name_t ∷ name_i ∷ name_x1 ∷ name_d0 ∷ name_p1 ∷ name_q1 ∷ []); body = (c.Then (c.Set 0 (c.Const 2)) (c.Then (c.Set 1 (c.Const 2)) (c.Then (c.If (c.Nonzero kind.Signed (c.Binary two.Le kind.Signed (c.Const 1) (c.Const 5))) (c.Then (c.Set 0 (c.Binary two.Add kind.Signed (c.Const 1) (c.Const 1))) (c.Then (c.Set 0 (c.Binary two.Lt kind.Signed (c.Const 3) (c.Binary two.Sub kind.Signed (c.Temp 0) (c.Temp 1)))) c.End)) c.End) (c.Then (c.Set 0 (c.Binary two.Add kind.Signed (c.Const 2) (c.Const 1))) (c.Then (c.Set 0 (c.Const 3)) (c.Then (c.Return (Some (c.Const 7))) c.End)))))) }) (s.Then 1 (s.Set ([]) ([])) s.NoBlock (s.Then 2 (s.Set ([]) ([])) s.NoBlock (s.Then 3 (s.If ([]) ([]) ([]) ([])) (s.WithBlock (s.Then 4 (s.Set ([]) ([])) s.NoBlock (s.Then 5 (s.Set ([]) ([])) s.NoBlock (s.Then 6 (s.Law name_len_pos (Nil ∷ []) ([])) s.NoBlock (s.Then 7 (s.Set ([]) ([])) s.NoBlock (s.Then 8 (s.Return ([]) ([]) ([])) s.NoBlock s.End))))) (s.WithBlock (s.Then 9 (s.Absurd ([])) s.NoBlock s.End) s.NoBlock)) s.End))) ≡ (RefusedAt 8 9 1)
unfolding computing
random_215 = refl

random_216 : body_verdict (record { predicates = ([]); specs = ((record { is_void = false; name = name_main; params = ([]); vars = []; pre = (record { opened = []; facts = ([]); locals = []; items = ([]) }); post = (record { opened = []; facts = ((IsInt (Var 0 sort.Val)) ∷ []); locals = []; items = ([]) }) }) ∷ []) }) (record { is_void = false; name = name_main; params = ([]); vars = []; pre = (record { opened = []; facts = ([]); locals = []; items = ([]) }); post = (record { opened = []; facts = ((IsInt (Var 0 sort.Val)) ∷ []); locals = []; items = ([]) }) }) (record { temps = (name_s ∷ name_t ∷ name_i ∷ name_x1 ∷ name_d0 ∷ name_p1 ∷ name_q1 ∷ []); body = (c.Then (c.Set 0 (c.Const 2)) (c.Then (c.Set 1 (c.Const 2)) (c.Then (c.If (c.Nonzero kind.Signed (c.Binary two.Le kind.Signed (c.Const 1) (c.Const 5))) (c.Then (c.Set 0 (c.Binary two.Add kind.Signed (c.Const 1) (c.Const 1))) (c.Then (c.Set 0 (c.Binary two.Lt kind.Signed (c.Const 3) (c.Binary two.Add kind.Signed (c.Temp 0) (c.Temp 1)))) c.End)) c.End) (c.Then (c.Set 0 (c.Binary two.Add kind.Signed (c.Const 2) (c.Const 1))) (c.Then (c.Set 0 (c.Const 3)) (c.Then (c.Return (Some (c.Const 7))) c.End)))))) }) (s.Then 1 (s.Set ([]) ([])) s.NoBlock (s.Then 2 (s.Set ([]) ([])) s.NoBlock (s.Then 3 (s.If ([]) ([]) ([]) ([])) (s.WithBlock (s.Then 4 (s.Set ([]) ([])) s.NoBlock (s.Then 5 (s.Set ([]) ([])) s.NoBlock (s.Then 6 (s.Set ([]) ([])) s.NoBlock (s.Then 7 (s.Law name_len_pos (Nil ∷ []) ([])) s.NoBlock (s.Then 8 (s.Set ([]) ([])) s.NoBlock (s.Then 9 (s.Return ([]) ([]) ([])) s.NoBlock s.End)))))) (s.WithBlock (s.Then 10 (s.Absurd ([])) s.NoBlock s.End) s.NoBlock)) s.End))) ≡ Accepted
unfolding computing
random_216 = refl

random_217 : body_verdict (record { predicates = ([]); specs = ((record { is_void = false; name = name_main; params = ([]); vars = []; pre = (record { opened = []; facts = ([]); locals = []; items = ((Data (Number (pos 64)) (Global name_arr) (Of2 binary.Cons (Of unary.Vi (Number (pos 1))) (Of2 binary.Cons (Of unary.Vi (Number (pos 2))) (Of2 binary.Cons (Of unary.Vi (Number (pos 0))) (Of2 binary.Cons (Of unary.Vi (Number (pos 0))) Nil))))) ∷ (Data (Number (pos 64)) (Global name_x) (Of2 binary.Cons (Of unary.Vi (Number (pos 3))) Nil)) ∷ []) }); post = (record { opened = (sort.List ∷ sort.List ∷ []); facts = ([]); locals = []; items = ((Data (Number (pos 64)) (Global name_arr) (Var 1 sort.List)) ∷ (Data (Number (pos 64)) (Global name_x) (Var 2 sort.List)) ∷ []) }) }) ∷ []) }) (record { is_void = false; name = name_main; params = ([]); vars = []; pre = (record { opened = []; facts = ([]); locals = []; items = ((Data (Number (pos 64)) (Global name_arr) (Of2 binary.Cons (Of unary.Vi (Number (pos 1))) (Of2 binary.Cons (Of unary.Vi (Number (pos 2))) (Of2 binary.Cons (Of unary.Vi (Number (pos 0))) (Of2 binary.Cons (Of unary.Vi (Number (pos 0))) Nil))))) ∷ (Data (Number (pos 64)) (Global name_x) (Of2 binary.Cons (Of unary.Vi (Number (pos 3))) Nil)) ∷ []) }); post = (record { opened = (sort.List ∷ sort.List ∷ []); facts = ([]); locals = []; items = ((Data (Number (pos 64)) (Global name_arr) (Var 1 sort.List)) ∷ (Data (Number (pos 64)) (Global name_x) (Var 2 sort.List)) ∷ []) }) }) (record { temps = (name_s ∷ name_t ∷ name_i ∷ name_x1 ∷ name_d0 ∷ name_p1 ∷ name_q1 ∷ []); body = (c.Then (c.Set 0 (c.Const 0)) (c.Then (c.Set 1 (c.Const 0)) (c.Then (c.Set 4 (c.Binary two.Mul kind.Signed (c.Const 1) (c.Const 1))) (c.Then (c.Store (root.Global name_x 1) c.Here (c.Const 3)) (c.Then (c.Set 0 (c.Binary two.Add kind.Signed (c.Temp 1) (c.Const 2))) (c.Then (c.Malloc 5 3) (c.Then (c.If (c.Pointers (c.Temp 5) (c.Const 0) true) (c.Then (c.Return (Some (c.Const 0))) c.End) c.End) (c.Then (c.Store (root.Temp 5) (c.Offset 0 c.Here) (c.Const 3)) (c.Then (c.Load 1 (root.Temp 5) (c.Offset 0 c.Here)) (c.Then (c.Free (c.Temp 5)) (c.Then (c.Return (Some (c.Binary two.Add kind.Signed (c.Const 2) (c.Const 1)))) c.End))))))))))) }) (s.Then 1 (s.Set ([]) ([])) s.NoBlock (s.Then 2 (s.Set ([]) ([])) s.NoBlock (s.Then 3 (s.Set ([]) ([])) s.NoBlock (s.Then 4 (s.Store 1 ([]) ([])) s.NoBlock (s.Then 5 (s.Set ([]) ([])) s.NoBlock (s.Then 6 (s.Malloc name_k1 ([]) ([])) (s.WithBlock (s.Then 7 (s.If ([]) ([]) ([]) ([])) (s.WithBlock (s.Then 8 (s.Return ((Of2 binary.Cons (Of unary.Vi (Number (pos 1))) (Of2 binary.Cons (Of unary.Vi (Number (pos 2))) (Of2 binary.Cons (Of unary.Vi (Number (pos 0))) (Of2 binary.Cons (Of unary.Vi (Number (pos 0))) Nil)))) ∷ (Of2 binary.Cons (Of unary.Vi (Number (pos 3))) Nil) ∷ []) ([]) ([])) s.NoBlock s.End) (s.WithBlock (s.Then 9 (s.Absurd ([])) s.NoBlock s.End) s.NoBlock)) s.End) (s.WithBlock (s.Then 10 (s.If (2 ∷ []) ([]) ([]) ([])) (s.WithBlock (s.Then 11 (s.Subst name_k1) s.NoBlock (s.Then 12 (s.Absurd ([])) s.NoBlock s.End)) (s.WithBlock (s.Then 13 (s.Store 2 ([]) ([])) s.NoBlock (s.Then 14 (s.Load 2 ([]) ([])) s.NoBlock (s.Then 15 (s.Free 2 3 ([])) s.NoBlock (s.Then 16 (s.Return ((Of2 binary.Cons (Of unary.Vi (Number (pos 1))) (Of2 binary.Cons (Of unary.Vi (Number (pos 2))) (Of2 binary.Cons (Of unary.Vi (Number (pos 0))) (Of2 binary.Cons (Of unary.Vi (Number (pos 0))) Nil)))) ∷ (Of2 binary.Cons (Of unary.Vi (Number (pos 3))) Nil) ∷ []) ([]) ([])) s.NoBlock s.End)))) s.NoBlock)) s.End) s.NoBlock)) s.End)))))) ≡ Accepted
unfolding computing
random_217 = refl

random_218 : body_verdict (record { predicates = ([]); specs = ((record { is_void = false; name = name_main; params = ([]); vars = []; pre = (record { opened = []; facts = ([]); locals = []; items = ((Data (Number (pos 64)) (Global name_arr) (Of2 binary.Cons (Of unary.Vi (Number (pos 1))) (Of2 binary.Cons (Of unary.Vi (Number (pos 2))) (Of2 binary.Cons (Of unary.Vi (Number (pos 0))) (Of2 binary.Cons (Of unary.Vi (Number (pos 0))) Nil))))) ∷ (Data (Number (pos 64)) (Global name_x) (Of2 binary.Cons (Of unary.Vi (Number (pos 3))) Nil)) ∷ []) }); post = (record { opened = (sort.List ∷ sort.List ∷ []); facts = ([]); locals = []; items = ((Data (Number (pos 64)) (Global name_arr) (Var 1 sort.List)) ∷ (Data (Number (pos 64)) (Global name_x) (Var 2 sort.List)) ∷ []) }) }) ∷ []) }) (record { is_void = false; name = name_main; params = ([]); vars = []; pre = (record { opened = []; facts = ([]); locals = []; items = ((Data (Number (pos 64)) (Global name_arr) (Of2 binary.Cons (Of unary.Vi (Number (pos 1))) (Of2 binary.Cons (Of unary.Vi (Number (pos 2))) (Of2 binary.Cons (Of unary.Vi (Number (pos 0))) (Of2 binary.Cons (Of unary.Vi (Number (pos 0))) Nil))))) ∷ (Data (Number (pos 64)) (Global name_x) (Of2 binary.Cons (Of unary.Vi (Number (pos 3))) Nil)) ∷ []) }); post = (record { opened = (sort.List ∷ sort.List ∷ []); facts = ([]); locals = []; items = ((Data (Number (pos 64)) (Global name_arr) (Var 1 sort.List)) ∷ (Data (Number (pos 64)) (Global name_x) (Var 2 sort.List)) ∷ []) }) }) (record { temps = (name_s ∷ name_t ∷ name_i ∷ name_x1 ∷ name_d0 ∷ name_p1 ∷ name_q1 ∷ []); body = (c.Then (c.Set 0 (c.Const 0)) (c.Then (c.Set 1 (c.Const 0)) (c.Then (c.Set 4 (c.Binary two.Mul kind.Signed (c.Const 1) (c.Const 1))) (c.Then (c.Store (root.Global name_x 1) c.Here (c.Const 3)) (c.Then (c.Set 0 (c.Binary two.Add kind.Signed (c.Temp 1) (c.Const 2))) (c.Then (c.Malloc 5 3) (c.Then (c.If (c.Pointers (c.Temp 5) (c.Const 0) true) (c.Then (c.Return (Some (c.Const 0))) c.End) c.End) (c.Then (c.Store (root.Temp 5) (c.Offset 0 c.Here) (c.Const 3)) (c.Then (c.Load 1 (root.Temp 5) (c.Offset 0 c.Here)) (c.Then (c.Free (c.Temp 5)) (c.Then (c.Return (Some (c.Binary two.Add kind.Signed (c.Const 2) (c.Const 1)))) c.End))))))))))) }) (s.Then 1 (s.Set ([]) ([])) s.NoBlock (s.Then 2 (s.Set ([]) ([])) s.NoBlock (s.Then 3 (s.Set ([]) ([])) s.NoBlock (s.Then 4 (s.Store 1 ([]) ([])) s.NoBlock (s.Then 5 (s.Set ([]) ([])) s.NoBlock (s.Then 6 (s.Malloc name_k1 ([]) ([])) (s.WithBlock (s.Then 7 (s.If ([]) ([]) ([]) ([])) (s.WithBlock (s.Then 8 (s.Return ((Of2 binary.Cons (Of unary.Vi (Number (pos 1))) (Of2 binary.Cons (Of unary.Vi (Number (pos 2))) (Of2 binary.Cons (Of unary.Vi (Number (pos 65))) (Of2 binary.Cons (Of unary.Vi (Number (pos 0))) Nil)))) ∷ (Of2 binary.Cons (Of unary.Vi (Number (pos 3))) Nil) ∷ []) ([]) ([])) s.NoBlock s.End) (s.WithBlock (s.Then 9 (s.Absurd ([])) s.NoBlock s.End) s.NoBlock)) s.End) (s.WithBlock (s.Then 10 (s.If (2 ∷ []) ([]) ([]) ([])) (s.WithBlock (s.Then 11 (s.Subst name_k1) s.NoBlock (s.Then 12 (s.Absurd ([])) s.NoBlock s.End)) (s.WithBlock (s.Then 13 (s.Store 2 ([]) ([])) s.NoBlock (s.Then 14 (s.Load 2 ([]) ([])) s.NoBlock (s.Then 15 (s.Free 2 3 ([])) s.NoBlock (s.Then 16 (s.Return ((Of2 binary.Cons (Of unary.Vi (Number (pos 1))) (Of2 binary.Cons (Of unary.Vi (Number (pos 2))) (Of2 binary.Cons (Of unary.Vi (Number (pos 0))) (Of2 binary.Cons (Of unary.Vi (Number (pos 0))) Nil)))) ∷ (Of2 binary.Cons (Of unary.Vi (Number (pos 3))) Nil) ∷ []) ([]) ([])) s.NoBlock s.End)))) s.NoBlock)) s.End) s.NoBlock)) s.End)))))) ≡ (RefusedAt 8 9 5)
unfolding computing
random_218 = refl

random_219 : body_verdict (record { predicates = ([]); specs = ((record { is_void = false; name = name_main; params = ([]); vars = []; pre = (record { opened = []; facts = ([]); locals = []; items = ((Data (Number (pos 64)) (Global name_arr) (Of2 binary.Cons (Of unary.Vi (Number (pos 1))) (Of2 binary.Cons (Of unary.Vi (Number (pos 2))) (Of2 binary.Cons (Of unary.Vi (Number (pos 0))) (Of2 binary.Cons (Of unary.Vi (Number (pos 0))) Nil))))) ∷ (Data (Number (pos 64)) (Global name_x) (Of2 binary.Cons (Of unary.Vi (Number (pos 3))) Nil)) ∷ []) }); post = (record { opened = (sort.List ∷ sort.List ∷ []); facts = ([]); locals = []; items = ((Data (Number (pos 64)) (Global name_arr) (Var 1 sort.List)) ∷ (Data (Number (pos 64)) (Global name_x) (Var 2 sort.List)) ∷ []) }) }) ∷ []) }) (record { is_void = false; name = name_main; params = ([]); vars = []; pre = (record { opened = []; facts = ([]); locals = []; items = ((Data (Number (pos 64)) (Global name_arr) (Of2 binary.Cons (Of unary.Vi (Number (pos 1))) (Of2 binary.Cons (Of unary.Vi (Number (pos 2))) (Of2 binary.Cons (Of unary.Vi (Number (pos 0))) (Of2 binary.Cons (Of unary.Vi (Number (pos 0))) Nil))))) ∷ (Data (Number (pos 64)) (Global name_x) (Of2 binary.Cons (Of unary.Vi (Number (pos 3))) Nil)) ∷ []) }); post = (record { opened = (sort.List ∷ sort.List ∷ []); facts = ([]); locals = []; items = ((Data (Number (pos 64)) (Global name_arr) (Var 1 sort.List)) ∷ (Data (Number (pos 64)) (Global name_x) (Var 2 sort.List)) ∷ []) }) }) (record { temps = (name_s ∷ name_t ∷ name_i ∷ name_x1 ∷ name_d0 ∷ name_p1 ∷ name_q1 ∷ []); body = (c.Then (c.Set 0 (c.Const 0)) (c.Then (c.Set 1 (c.Const 0)) (c.Then (c.Set 4 (c.Binary two.Mul kind.Signed (c.Const 1) (c.Const 1))) (c.Then (c.Store (root.Global name_x 1) c.Here (c.Const 3)) (c.Then (c.Set 0 (c.Binary two.Add kind.Signed (c.Temp 1) (c.Const 2))) (c.Then (c.Malloc 5 3) (c.Then (c.If (c.Pointers (c.Temp 5) (c.Const 0) true) (c.Then (c.Return (Some (c.Const 0))) c.End) c.End) (c.Then (c.Store (root.Temp 5) (c.Offset 0 c.Here) (c.Const 3)) (c.Then (c.Load 1 (root.Temp 5) (c.Offset 0 c.Here)) (c.Then (c.Free (c.Temp 5)) (c.Then (c.Return (Some (c.Binary two.Add kind.Signed (c.Const 2) (c.Const 1)))) c.End))))))))))) }) (s.Then 1 (s.Set ([]) ([])) s.NoBlock (s.Then 2 (s.Set ([]) ([])) s.NoBlock (s.Then 3 (s.Set ([]) ([])) s.NoBlock (s.Then 4 (s.Store 1 ([]) ([])) s.NoBlock (s.Then 5 (s.Set ([]) ([])) s.NoBlock (s.Then 6 (s.Malloc name_k1 ([]) ([])) (s.WithBlock (s.Then 7 (s.If ([]) ([]) ([]) ([])) (s.WithBlock (s.Then 8 (s.Return ((Of2 binary.Cons (Of unary.Vi (Number (pos 1))) (Of2 binary.Cons (Of unary.Vi (Number (pos 2))) (Of2 binary.Cons (Of unary.Vi (Number (pos 0))) (Of2 binary.Cons (Of unary.Vi (Number (pos 0))) Nil)))) ∷ (Of2 binary.Cons (Of unary.Vi (Number (pos 3))) Nil) ∷ []) ([]) ([])) s.NoBlock s.End) (s.WithBlock (s.Then 9 (s.Absurd ([])) s.NoBlock s.End) s.NoBlock)) s.End) (s.WithBlock (s.Then 10 (s.If (2 ∷ []) ([]) ([]) ([])) (s.WithBlock (s.Then 11 (s.Subst name_k1) s.NoBlock (s.Then 12 (s.Absurd ([])) s.NoBlock s.End)) (s.WithBlock (s.Then 13 (s.Store 2 ([]) ([])) s.NoBlock (s.Then 14 (s.Rewrite true 0 (occurrence.Item 0)) s.NoBlock (s.Then 15 (s.Load 2 ([]) ([])) s.NoBlock (s.Then 16 (s.Free 2 3 ([])) s.NoBlock (s.Then 17 (s.Return ((Of2 binary.Cons (Of unary.Vi (Number (pos 1))) (Of2 binary.Cons (Of unary.Vi (Number (pos 2))) (Of2 binary.Cons (Of unary.Vi (Number (pos 0))) (Of2 binary.Cons (Of unary.Vi (Number (pos 0))) Nil)))) ∷ (Of2 binary.Cons (Of unary.Vi (Number (pos 3))) Nil) ∷ []) ([]) ([])) s.NoBlock s.End))))) s.NoBlock)) s.End) s.NoBlock)) s.End)))))) ≡ (RefusedAt 14 28 1)
unfolding computing
random_219 = refl

random_220 : body_verdict (record { predicates = ([]); specs = ((record { is_void = false; name = name_main; params = ([]); vars = []; pre = (record { opened = []; facts = ([]); locals = []; items = ((Data (Number (pos 64)) (Global name_arr) (Of2 binary.Cons (Of unary.Vi (Number (pos 1))) (Of2 binary.Cons (Of unary.Vi (Number (pos 2))) (Of2 binary.Cons (Of unary.Vi (Number (pos 0))) (Of2 binary.Cons (Of unary.Vi (Number (pos 0))) Nil))))) ∷ (Data (Number (pos 64)) (Global name_x) (Of2 binary.Cons (Of unary.Vi (Number (pos 3))) Nil)) ∷ []) }); post = (record { opened = (sort.List ∷ sort.List ∷ []); facts = ([]); locals = []; items = ((Data (Number (pos 64)) (Global name_arr) (Var 1 sort.List)) ∷ (Data (Number (pos 64)) (Global name_x) (Var 2 sort.List)) ∷ []) }) }) ∷ []) }) (record { is_void = false; name = name_main; params = ([]); vars = []; pre = (record { opened = []; facts = ([]); locals = []; items = ((Data (Number (pos 64)) (Global name_arr) (Of2 binary.Cons (Of unary.Vi (Number (pos 1))) (Of2 binary.Cons (Of unary.Vi (Number (pos 2))) (Of2 binary.Cons (Of unary.Vi (Number (pos 0))) (Of2 binary.Cons (Of unary.Vi (Number (pos 0))) Nil))))) ∷ (Data (Number (pos 64)) (Global name_x) (Of2 binary.Cons (Of unary.Vi (Number (pos 3))) Nil)) ∷ []) }); post = (record { opened = (sort.List ∷ sort.List ∷ []); facts = ([]); locals = []; items = ((Data (Number (pos 64)) (Global name_arr) (Var 1 sort.List)) ∷ (Data (Number (pos 64)) (Global name_x) (Var 2 sort.List)) ∷ []) }) }) (record { temps = (name_s ∷ name_t ∷ name_i ∷ name_x1 ∷ name_d0 ∷ name_p1 ∷ name_q1 ∷ []); body = (c.Then (c.Set 0 (c.Const 0)) (c.Then (c.Set 1 (c.Const 0)) (c.Then (c.Set 4 (c.Binary two.Mul kind.Signed (c.Const 1) (c.Const 1))) (c.Then (c.Store (root.Global name_x 1) c.Here (c.Const 3)) (c.Then (c.Set 0 (c.Binary two.Add kind.Signed (c.Temp 1) (c.Const 2))) (c.Then (c.Malloc 5 3) (c.Then (c.If (c.Pointers (c.Temp 5) (c.Const 0) true) (c.Then (c.Return (Some (c.Const 0))) c.End) c.End) (c.Then (c.Store (root.Temp 5) (c.Offset 0 c.Here) (c.Const 3)) (c.Then (c.Load 1 (root.Temp 5) (c.Offset 0 c.Here)) (c.Then (c.Free (c.Temp 5)) (c.Then (c.Return (Some (c.Binary two.Add kind.Signed (c.Const 2) (c.Const 1)))) c.End))))))))))) }) (s.Then 1 (s.Set ([]) ([])) s.NoBlock (s.Then 2 (s.Set ([]) ([])) s.NoBlock (s.Then 3 (s.Set ([]) ([])) s.NoBlock (s.Then 4 (s.Store 1 ([]) ([])) s.NoBlock (s.Then 5 (s.Set ([]) ([])) s.NoBlock (s.Then 6 (s.Free 0 1 ([])) s.NoBlock s.End)))))) ≡ (RefusedAt 6 15 1)
unfolding computing
random_220 = refl

random_221 : body_verdict (record { predicates = ([]); specs = ((record { is_void = false; name = name_main; params = ([]); vars = []; pre = (record { opened = []; facts = ([]); locals = []; items = ((Data (Number (pos 64)) (Global name_arr) (Of2 binary.Cons (Of unary.Vi (Number (pos 1))) (Of2 binary.Cons (Of unary.Vi (Number (pos 2))) (Of2 binary.Cons (Of unary.Vi (Number (pos 0))) (Of2 binary.Cons (Of unary.Vi (Number (pos 0))) Nil))))) ∷ (Data (Number (pos 64)) (Global name_arr) (Of2 binary.Cons (Of unary.Vi (Number (pos 3))) Nil)) ∷ []) }); post = (record { opened = (sort.List ∷ sort.List ∷ []); facts = ([]); locals = []; items = ((Data (Number (pos 64)) (Global name_arr) (Var 1 sort.List)) ∷ (Data (Number (pos 64)) (Global name_x) (Var 2 sort.List)) ∷ []) }) }) ∷ []) }) (record { is_void = false; name = name_main; params = ([]); vars = []; pre = (record { opened = []; facts = ([]); locals = []; items = ((Data (Number (pos 64)) (Global name_arr) (Of2 binary.Cons (Of unary.Vi (Number (pos 1))) (Of2 binary.Cons (Of unary.Vi (Number (pos 2))) (Of2 binary.Cons (Of unary.Vi (Number (pos 0))) (Of2 binary.Cons (Of unary.Vi (Number (pos 0))) Nil))))) ∷ (Data (Number (pos 64)) (Global name_arr) (Of2 binary.Cons (Of unary.Vi (Number (pos 3))) Nil)) ∷ []) }); post = (record { opened = (sort.List ∷ sort.List ∷ []); facts = ([]); locals = []; items = ((Data (Number (pos 64)) (Global name_arr) (Var 1 sort.List)) ∷ (Data (Number (pos 64)) (Global name_x) (Var 2 sort.List)) ∷ []) }) }) (record { temps = (name_s ∷ name_t ∷ name_i ∷ name_x1 ∷ name_d0 ∷ name_p1 ∷ name_q1 ∷ []); body = (c.Then (c.Set 0 (c.Const 0)) (c.Then (c.Set 1 (c.Const 0)) (c.Then (c.Set 4 (c.Binary two.Mul kind.Signed (c.Const 1) (c.Const 1))) (c.Then (c.Store (root.Global name_x 1) c.Here (c.Const 3)) (c.Then (c.Set 0 (c.Binary two.Add kind.Signed (c.Temp 1) (c.Const 2))) (c.Then (c.Malloc 5 3) (c.Then (c.If (c.Pointers (c.Temp 5) (c.Const 0) true) (c.Then (c.Return (Some (c.Const 0))) c.End) c.End) (c.Then (c.Store (root.Temp 5) (c.Offset 0 c.Here) (c.Const 3)) (c.Then (c.Load 1 (root.Temp 5) (c.Offset 0 c.Here)) (c.Then (c.Free (c.Temp 5)) (c.Then (c.Return (Some (c.Binary two.Add kind.Signed (c.Const 2) (c.Const 1)))) c.End))))))))))) }) (s.Then 1 (s.Set ([]) ([])) s.NoBlock (s.Then 2 (s.Set ([]) ([])) s.NoBlock (s.Then 3 (s.Set ([]) ([])) s.NoBlock (s.Then 4 (s.Store 1 ([]) ([])) s.NoBlock (s.Then 5 (s.Set ([]) ([])) s.NoBlock (s.Then 6 (s.Malloc name_k1 ([]) ([])) (s.WithBlock (s.Then 7 (s.If ([]) ([]) ([]) ([])) (s.WithBlock (s.Then 8 (s.Return ((Of2 binary.Cons (Of unary.Vi (Number (pos 1))) (Of2 binary.Cons (Of unary.Vi (Number (pos 2))) (Of2 binary.Cons (Of unary.Vi (Number (pos 0))) (Of2 binary.Cons (Of unary.Vi (Number (pos 0))) Nil)))) ∷ (Of2 binary.Cons (Of unary.Vi (Number (pos 3))) Nil) ∷ []) ([]) ([])) s.NoBlock s.End) (s.WithBlock (s.Then 9 (s.Absurd ([])) s.NoBlock s.End) s.NoBlock)) s.End) (s.WithBlock (s.Then 10 (s.If (2 ∷ []) ([]) ([]) ([])) (s.WithBlock (s.Then 11 (s.Subst name_k1) s.NoBlock (s.Then 12 (s.Absurd ([])) s.NoBlock s.End)) (s.WithBlock (s.Then 13 (s.Store 2 ([]) ([])) s.NoBlock (s.Then 14 (s.Load 2 ([]) ([])) s.NoBlock (s.Then 15 (s.Free 2 3 ([])) s.NoBlock (s.Then 16 (s.Return ((Of2 binary.Cons (Of unary.Vi (Number (pos 1))) (Of2 binary.Cons (Of unary.Vi (Number (pos 2))) (Of2 binary.Cons (Of unary.Vi (Number (pos 0))) (Of2 binary.Cons (Of unary.Vi (Number (pos 0))) Nil)))) ∷ (Of2 binary.Cons (Of unary.Vi (Number (pos 3))) Nil) ∷ []) ([]) ([])) s.NoBlock s.End)))) s.NoBlock)) s.End) s.NoBlock)) s.End)))))) ≡ (RefusedAt 4 4 1)
unfolding computing
random_221 = refl

random_222 : body_verdict (record { predicates = ([]); specs = ((record { is_void = false; name = name_main; params = ([]); vars = []; pre = (record { opened = []; facts = ([]); locals = []; items = ((Data (Number (pos 64)) (Global name_arr) (Of2 binary.Cons (Of unary.Vi (Number (pos 1))) (Of2 binary.Cons (Of unary.Vi (Number (pos 2))) (Of2 binary.Cons (Of unary.Vi (Number (pos 0))) (Of2 binary.Cons (Of unary.Vi (Number (pos 0))) Nil))))) ∷ (Data (Number (pos 64)) (Global name_x) (Of2 binary.Cons (Of unary.Vi (Number (pos 3))) Nil)) ∷ []) }); post = (record { opened = (sort.List ∷ sort.List ∷ []); facts = ([]); locals = []; items = ((Data (Number (pos 64)) (Global name_arr) (Var 1 sort.List)) ∷ (Data (Number (pos 64)) (Global name_x) (Var 2 sort.List)) ∷ []) }) }) ∷ []) }) (record { is_void = false; name = name_main; params = ([]); vars = []; pre = (record { opened = []; facts = ([]); locals = []; items = ((Data (Number (pos 64)) (Global name_arr) (Of2 binary.Cons (Of unary.Vi (Number (pos 1))) (Of2 binary.Cons (Of unary.Vi (Number (pos 2))) (Of2 binary.Cons (Of unary.Vi (Number (pos 0))) (Of2 binary.Cons (Of unary.Vi (Number (pos 0))) Nil))))) ∷ (Data (Number (pos 64)) (Global name_x) (Of2 binary.Cons (Of unary.Vi (Number (pos 3))) Nil)) ∷ []) }); post = (record { opened = (sort.List ∷ sort.List ∷ []); facts = ([]); locals = []; items = ((Data (Number (pos 64)) (Global name_arr) (Var 1 sort.List)) ∷ (Data (Number (pos 64)) (Global name_x) (Var 2 sort.List)) ∷ []) }) }) (record { temps = (name_s ∷ name_t ∷ name_i ∷ name_x1 ∷ name_d0 ∷ name_p1 ∷ name_q1 ∷ []); body = (c.Then (c.Set 0 (c.Const 0)) (c.Then (c.Set 1 (c.Const 0)) (c.Then (c.Set 4 (c.Binary two.Mul kind.Signed (c.Const 1) (c.Const 1))) (c.Then (c.Store (root.Global name_x 1) c.Here (c.Const 3)) (c.Then (c.Set 0 (c.Binary two.Add kind.Signed (c.Temp 1) (c.Const 2))) (c.Then (c.Malloc 5 3) (c.Then (c.If (c.Pointers (c.Temp 5) (c.Const 0) true) (c.Then (c.Return (Some (c.Const 0))) c.End) c.End) (c.Then (c.Store (root.Temp 5) (c.Offset 0 c.Here) (c.Const 3)) (c.Then (c.Load 1 (root.Temp 5) (c.Offset 0 c.Here)) (c.Then (c.Free (c.Temp 5)) (c.Then (c.Return (Some (c.Binary two.Add kind.Signed (c.Const 2) (c.Const 1)))) c.End))))))))))) }) (s.Then 1 (s.Set ([]) ([])) s.NoBlock (s.Then 2 (s.Set ([]) ([])) s.NoBlock (s.Then 3 (s.Set ([]) ([])) s.NoBlock (s.Then 4 (s.Store 1 ([]) ([])) s.NoBlock (s.Then 5 (s.Set ([]) ([])) s.NoBlock (s.Then 6 (s.Malloc name_k1 ([]) ([])) (s.WithBlock (s.Then 7 (s.If ([]) ([]) ([]) ([])) (s.WithBlock (s.Then 8 (s.Return ((Of2 binary.Cons (Of unary.Vi (Number (pos 1))) (Of2 binary.Cons (Of unary.Vi (Number (pos 2))) (Of2 binary.Cons (Of unary.Vi (Number (pos 0))) (Of2 binary.Cons (Of unary.Vi (Number (pos 0))) Nil)))) ∷ (Of2 binary.Cons (Of unary.Vi (Number (pos 3))) Nil) ∷ []) ([]) ([])) s.NoBlock s.End) (s.WithBlock (s.Then 9 (s.Absurd ([])) s.NoBlock s.End) s.NoBlock)) s.End) (s.WithBlock (s.Then 10 (s.If (2 ∷ []) ([]) ([]) ([])) (s.WithBlock (s.Then 11 (s.Subst name_k1) s.NoBlock (s.Then 12 (s.Absurd ([])) s.NoBlock s.End)) (s.WithBlock (s.Then 13 (s.Store 2 ([]) ([])) s.NoBlock (s.Then 14 (s.Load 1 ([]) ([])) s.NoBlock (s.Then 15 (s.Free 2 3 ([])) s.NoBlock (s.Then 16 (s.Return ((Of2 binary.Cons (Of unary.Vi (Number (pos 1))) (Of2 binary.Cons (Of unary.Vi (Number (pos 2))) (Of2 binary.Cons (Of unary.Vi (Number (pos 0))) (Of2 binary.Cons (Of unary.Vi (Number (pos 0))) Nil)))) ∷ (Of2 binary.Cons (Of unary.Vi (Number (pos 3))) Nil) ∷ []) ([]) ([])) s.NoBlock s.End)))) s.NoBlock)) s.End) s.NoBlock)) s.End)))))) ≡ (RefusedAt 14 3 1)
unfolding computing
random_222 = refl

random_223 : body_verdict (record { predicates = ([]); specs = ((record { is_void = false; name = name_main; params = ([]); vars = []; pre = (record { opened = []; facts = ([]); locals = []; items = ((Data (Number (pos 64)) (Global name_arr) (Of2 binary.Cons (Of unary.Vi (Number (pos 1))) (Of2 binary.Cons (Of unary.Vi (Number (pos 2))) (Of2 binary.Cons (Of unary.Vi (Number (pos 0))) (Of2 binary.Cons (Of unary.Vi (Number (pos 0))) Nil))))) ∷ (Data (Number (pos 64)) (Global name_x) (Of2 binary.Cons (Of unary.Vi (Number (pos 3))) Nil)) ∷ []) }); post = (record { opened = (sort.List ∷ sort.List ∷ []); facts = ([]); locals = []; items = ((Data (Number (pos 64)) (Global name_arr) (Var 1 sort.List)) ∷ (Data (Number (pos 64)) (Global name_x) (Var 2 sort.List)) ∷ []) }) }) ∷ []) }) (record { is_void = false; name = name_main; params = ([]); vars = []; pre = (record { opened = []; facts = ([]); locals = []; items = ((Data (Number (pos 64)) (Global name_arr) (Of2 binary.Cons (Of unary.Vi (Number (pos 1))) (Of2 binary.Cons (Of unary.Vi (Number (pos 2))) (Of2 binary.Cons (Of unary.Vi (Number (pos 0))) (Of2 binary.Cons (Of unary.Vi (Number (pos 0))) Nil))))) ∷ (Data (Number (pos 64)) (Global name_x) (Of2 binary.Cons (Of unary.Vi (Number (pos 3))) Nil)) ∷ []) }); post = (record { opened = (sort.List ∷ sort.List ∷ []); facts = ([]); locals = []; items = ((Data (Number (pos 64)) (Global name_arr) (Var 1 sort.List)) ∷ (Data (Number (pos 64)) (Global name_x) (Var 2 sort.List)) ∷ []) }) }) (record { temps = (name_s ∷ name_t ∷ name_i ∷ name_x1 ∷ name_d0 ∷ name_p1 ∷ name_q1 ∷ []); body = (c.Then (c.Set 0 (c.Const 0)) (c.Then (c.Set 1 (c.Const 0)) (c.Then (c.Set 4 (c.Binary two.Mul kind.Signed (c.Const 1) (c.Const 1))) (c.Then (c.Store (root.Global name_x 1) c.Here (c.Const 3)) (c.Then (c.Set 0 (c.Binary two.Add kind.Signed (c.Temp 1) (c.Const 2))) (c.Then (c.Malloc 5 3) (c.Then (c.If (c.Pointers (c.Temp 5) (c.Const 0) true) (c.Then (c.Return (Some (c.Const 0))) c.End) c.End) (c.Then (c.Store (root.Temp 5) (c.Offset 0 c.Here) (c.Const 3)) (c.Then (c.Load 1 (root.Temp 5) (c.Offset 0 c.Here)) (c.Then (c.Free (c.Temp 5)) (c.Then (c.Return (Some (c.Binary two.Add kind.Signed (c.Const 2) (c.Const 1)))) c.End))))))))))) }) (s.Then 1 (s.Set ([]) ([])) s.NoBlock (s.Then 2 (s.Set ([]) ([])) s.NoBlock (s.Then 3 (s.Set ([]) ([])) s.NoBlock (s.Then 4 (s.Store 1 ([]) ([])) s.NoBlock (s.Then 5 (s.Set ([]) ([])) s.NoBlock (s.Then 6 (s.Malloc name_k1 ([]) ([])) (s.WithBlock (s.Then 7 (s.If ([]) ([]) ([]) ([])) (s.WithBlock (s.Then 8 (s.Return ((Of2 binary.Cons (Of unary.Vi (Number (pos 1))) (Of2 binary.Cons (Of unary.Vi (Number (pos 2))) (Of2 binary.Cons (Of unary.Vi (Number (pos 0))) (Of2 binary.Cons (Of unary.Vi (Number (pos 0))) Nil)))) ∷ (Of2 binary.Cons (Of unary.Vi (Number (pos 3))) Nil) ∷ []) ([]) ([])) s.NoBlock s.End) (s.WithBlock (s.Then 9 (s.Absurd ([])) s.NoBlock s.End) s.NoBlock)) s.End) (s.WithBlock (s.Then 10 (s.If (2 ∷ []) ([]) ([]) ([])) (s.WithBlock (s.Then 11 (s.Subst name_k1) s.NoBlock (s.Then 12 (s.Absurd ([])) s.NoBlock s.End)) (s.WithBlock (s.Then 13 (s.Store 2 ([]) ([])) s.NoBlock (s.Then 14 (s.Load 2 ([]) ([])) s.NoBlock (s.Then 15 (s.Free 2 4 ([])) s.NoBlock (s.Then 16 (s.Return ((Of2 binary.Cons (Of unary.Vi (Number (pos 1))) (Of2 binary.Cons (Of unary.Vi (Number (pos 2))) (Of2 binary.Cons (Of unary.Vi (Number (pos 0))) (Of2 binary.Cons (Of unary.Vi (Number (pos 0))) Nil)))) ∷ (Of2 binary.Cons (Of unary.Vi (Number (pos 3))) Nil) ∷ []) ([]) ([])) s.NoBlock s.End)))) s.NoBlock)) s.End) s.NoBlock)) s.End)))))) ≡ (RefusedAt 15 15 1)
unfolding computing
random_223 = refl

random_224 : body_verdict (record { predicates = ([]); specs = ((record { is_void = false; name = name_main; params = ([]); vars = []; pre = (record { opened = []; facts = ([]); locals = []; items = ((Data (Number (pos 64)) (Global name_arr) (Of2 binary.Cons (Of unary.Vi (Number (pos 1))) (Of2 binary.Cons (Of unary.Vi (Number (pos 2))) (Of2 binary.Cons (Of unary.Vi (Number (pos 0))) (Of2 binary.Cons (Of unary.Vi (Number (pos 0))) Nil))))) ∷ (Data (Number (pos 64)) (Global name_x) (Of2 binary.Cons (Of unary.Vi (Number (pos 3))) Nil)) ∷ []) }); post = (record { opened = (sort.List ∷ sort.List ∷ []); facts = ([]); locals = []; items = ((Data (Number (pos 64)) (Global name_arr) (Var 1 sort.List)) ∷ (Data (Number (pos 64)) (Global name_x) (Var 2 sort.List)) ∷ []) }) }) ∷ []) }) (record { is_void = false; name = name_main; params = ([]); vars = []; pre = (record { opened = []; facts = ([]); locals = []; items = ((Data (Number (pos 64)) (Global name_arr) (Of2 binary.Cons (Of unary.Vi (Number (pos 1))) (Of2 binary.Cons (Of unary.Vi (Number (pos 2))) (Of2 binary.Cons (Of unary.Vi (Number (pos 0))) (Of2 binary.Cons (Of unary.Vi (Number (pos 0))) Nil))))) ∷ (Data (Number (pos 64)) (Global name_x) (Of2 binary.Cons (Of unary.Vi (Number (pos 3))) Nil)) ∷ []) }); post = (record { opened = (sort.List ∷ sort.List ∷ []); facts = ([]); locals = []; items = ((Data (Number (pos 64)) (Global name_arr) (Var 1 sort.List)) ∷ (Data (Number (pos 64)) (Global name_x) (Var 2 sort.List)) ∷ []) }) }) (record { temps = (name_s ∷ name_t ∷ name_i ∷ name_x1 ∷ name_d0 ∷ name_p1 ∷ name_q1 ∷ []); body = (c.Then (c.Set 0 (c.Const 0)) (c.Then (c.Set 1 (c.Const 0)) (c.Then (c.Set 4 (c.Binary two.Mul kind.Signed (c.Const 1) (c.Const 1))) (c.Then (c.Store (root.Global name_x 1) c.Here (c.Const 3)) (c.Then (c.Set 0 (c.Binary two.Add kind.Signed (c.Temp 1) (c.Const 2))) (c.Then (c.Malloc 5 3) (c.Then (c.If (c.Pointers (c.Temp 5) (c.Const 0) true) (c.Then (c.Return (Some (c.Const 0))) c.End) c.End) (c.Then (c.Store (root.Temp 5) (c.Offset 0 c.Here) (c.Const 3)) (c.Then (c.Load 1 (root.Temp 5) (c.Offset 0 c.Here)) (c.Then (c.Free (c.Temp 5)) (c.Then (c.Return (Some (c.Binary two.Add kind.Signed (c.Const 2) (c.Const 1)))) c.End))))))))))) }) (s.Then 1 (s.Set ([]) ([])) s.NoBlock (s.Then 2 (s.Set ([]) ([])) s.NoBlock (s.Then 3 (s.Set ([]) ([])) s.NoBlock (s.Then 4 (s.Store 1 ([]) ([])) s.NoBlock (s.Then 5 (s.Set ([]) ([])) s.NoBlock (s.Then 6 (s.Share 0 (Number (pos 32)) ([])) s.NoBlock (s.Then 7 (s.Malloc name_k1 ([]) ([])) (s.WithBlock (s.Then 8 (s.If ([]) ([]) ([]) ([])) (s.WithBlock (s.Then 9 (s.Return ((Of2 binary.Cons (Of unary.Vi (Number (pos 1))) (Of2 binary.Cons (Of unary.Vi (Number (pos 2))) (Of2 binary.Cons (Of unary.Vi (Number (pos 0))) (Of2 binary.Cons (Of unary.Vi (Number (pos 0))) Nil)))) ∷ (Of2 binary.Cons (Of unary.Vi (Number (pos 3))) Nil) ∷ []) ([]) ([])) s.NoBlock s.End) (s.WithBlock (s.Then 10 (s.Absurd ([])) s.NoBlock s.End) s.NoBlock)) s.End) (s.WithBlock (s.Then 11 (s.If (2 ∷ []) ([]) ([]) ([])) (s.WithBlock (s.Then 12 (s.Subst name_k1) s.NoBlock (s.Then 13 (s.Absurd ([])) s.NoBlock s.End)) (s.WithBlock (s.Then 14 (s.Store 2 ([]) ([])) s.NoBlock (s.Then 15 (s.Load 2 ([]) ([])) s.NoBlock (s.Then 16 (s.Free 2 3 ([])) s.NoBlock (s.Then 17 (s.Return ((Of2 binary.Cons (Of unary.Vi (Number (pos 1))) (Of2 binary.Cons (Of unary.Vi (Number (pos 2))) (Of2 binary.Cons (Of unary.Vi (Number (pos 0))) (Of2 binary.Cons (Of unary.Vi (Number (pos 0))) Nil)))) ∷ (Of2 binary.Cons (Of unary.Vi (Number (pos 3))) Nil) ∷ []) ([]) ([])) s.NoBlock s.End)))) s.NoBlock)) s.End) s.NoBlock)) s.End))))))) ≡ (RefusedAt 9 9 5)
unfolding computing
random_224 = refl

random_225 : body_verdict (record { predicates = ([]); specs = ((record { is_void = false; name = name_main; params = ([]); vars = []; pre = (record { opened = []; facts = ([]); locals = []; items = ((Data (Number (pos 64)) (Global name_arr) (Of2 binary.Cons (Of unary.Vi (Number (pos 1))) (Of2 binary.Cons (Of unary.Vi (Number (pos 2))) (Of2 binary.Cons (Of unary.Vi (Number (pos 0))) (Of2 binary.Cons (Of unary.Vi (Number (pos 0))) Nil))))) ∷ (Data (Number (pos 64)) (Global name_x) (Of2 binary.Cons (Of unary.Vi (Number (pos 3))) Nil)) ∷ []) }); post = (record { opened = (sort.List ∷ sort.List ∷ []); facts = ([]); locals = []; items = ((Data (Number (pos 64)) (Global name_arr) (Var 1 sort.List)) ∷ (Data (Number (pos 64)) (Global name_x) (Var 2 sort.List)) ∷ []) }) }) ∷ []) }) (record { is_void = false; name = name_main; params = ([]); vars = []; pre = (record { opened = []; facts = ([]); locals = []; items = ((Data (Number (pos 64)) (Global name_arr) (Of2 binary.Cons (Of unary.Vi (Number (pos 1))) (Of2 binary.Cons (Of unary.Vi (Number (pos 2))) (Of2 binary.Cons (Of unary.Vi (Number (pos 0))) (Of2 binary.Cons (Of unary.Vi (Number (pos 0))) Nil))))) ∷ (Data (Number (pos 64)) (Global name_x) (Of2 binary.Cons (Of unary.Vi (Number (pos 3))) Nil)) ∷ []) }); post = (record { opened = (sort.List ∷ sort.List ∷ []); facts = ([]); locals = []; items = ((Data (Number (pos 64)) (Global name_arr) (Var 1 sort.List)) ∷ (Data (Number (pos 64)) (Global name_x) (Var 2 sort.List)) ∷ []) }) }) (record { temps = (name_s ∷ name_t ∷ name_i ∷ name_x1 ∷ name_d0 ∷ name_p1 ∷ name_q1 ∷ []); body = (c.Then (c.Set 0 (c.Const 0)) (c.Then (c.Set 1 (c.Const 0)) (c.Then (c.Set 4 (c.Binary two.Mul kind.Signed (c.Const 1) (c.Const 1))) (c.Then (c.Store (root.Global name_x 1) c.Here (c.Const 3)) (c.Then (c.Set 0 (c.Binary two.Add kind.Signed (c.Temp 1) (c.Const 2))) (c.Then (c.Malloc 5 3) (c.Then (c.If (c.Pointers (c.Temp 5) (c.Const 0) true) (c.Then (c.Return (Some (c.Const 0))) c.End) c.End) (c.Then (c.Store (root.Temp 5) (c.Offset 0 c.Here) (c.Const 3)) (c.Then (c.Load 1 (root.Temp 5) (c.Offset 0 c.Here)) (c.Then (c.Free (c.Temp 5)) (c.Then (c.Return (Some (c.Binary two.Add kind.Signed (c.Const 2) (c.Const 1)))) c.End))))))))))) }) (s.Then 1 (s.Set ([]) ([])) s.NoBlock (s.Then 2 (s.Set ([]) ([])) s.NoBlock (s.Then 3 (s.Set ([]) ([])) s.NoBlock (s.Then 4 (s.Pose (record { opened = []; facts = ([]); locals = ((name_zz, (Of unary.Vi (Number (pos 0)))) ∷ []); items = ([]) }) ([]) ([])) (s.WithBlock s.End s.NoBlock) (s.Then 5 (s.Store 1 ([]) ([])) s.NoBlock (s.Then 6 (s.Set ([]) ([])) s.NoBlock (s.Then 7 (s.Malloc name_k1 ([]) ([])) (s.WithBlock (s.Then 8 (s.If ([]) ([]) ([]) ([])) (s.WithBlock (s.Then 9 (s.Return ((Of2 binary.Cons (Of unary.Vi (Number (pos 1))) (Of2 binary.Cons (Of unary.Vi (Number (pos 2))) (Of2 binary.Cons (Of unary.Vi (Number (pos 0))) (Of2 binary.Cons (Of unary.Vi (Number (pos 0))) Nil)))) ∷ (Of2 binary.Cons (Of unary.Vi (Number (pos 3))) Nil) ∷ []) ([]) ([])) s.NoBlock s.End) (s.WithBlock (s.Then 10 (s.Absurd ([])) s.NoBlock s.End) s.NoBlock)) s.End) (s.WithBlock (s.Then 11 (s.If (2 ∷ []) ([]) ([]) ([])) (s.WithBlock (s.Then 12 (s.Subst name_k1) s.NoBlock (s.Then 13 (s.Absurd ([])) s.NoBlock s.End)) (s.WithBlock (s.Then 14 (s.Store 2 ([]) ([])) s.NoBlock (s.Then 15 (s.Load 2 ([]) ([])) s.NoBlock (s.Then 16 (s.Free 2 3 ([])) s.NoBlock (s.Then 17 (s.Return ((Of2 binary.Cons (Of unary.Vi (Number (pos 1))) (Of2 binary.Cons (Of unary.Vi (Number (pos 2))) (Of2 binary.Cons (Of unary.Vi (Number (pos 0))) (Of2 binary.Cons (Of unary.Vi (Number (pos 0))) Nil)))) ∷ (Of2 binary.Cons (Of unary.Vi (Number (pos 3))) Nil) ∷ []) ([]) ([])) s.NoBlock s.End)))) s.NoBlock)) s.End) s.NoBlock)) s.End))))))) ≡ (RefusedAt 4 12 4)
unfolding computing
random_225 = refl

random_226 : body_verdict (record { predicates = ([]); specs = ((record { is_void = false; name = name_main; params = ([]); vars = []; pre = (record { opened = []; facts = ([]); locals = []; items = ((Data (Number (pos 64)) (Global name_g) (Of2 binary.Cons (Of unary.Vi (Number (pos 3))) Nil)) ∷ (Data (Number (pos 64)) (Global name_arr) (Of2 binary.Cons (Of unary.Vi (Number (pos 1))) (Of2 binary.Cons (Of unary.Vi (Number (pos 2))) (Of2 binary.Cons (Of unary.Vi (Number (pos 0))) (Of2 binary.Cons (Of unary.Vi (Number (pos 0))) Nil))))) ∷ (Data (Number (pos 64)) (Global name_x) (Of2 binary.Cons (Of unary.Vi (Number (pos 3))) Nil)) ∷ []) }); post = (record { opened = (sort.List ∷ sort.List ∷ []); facts = ([]); locals = []; items = ((Data (Number (pos 64)) (Global name_g) (Var 1 sort.List)) ∷ (Data (Number (pos 64)) (Global name_arr) (Var 2 sort.List)) ∷ (Data (Number (pos 64)) (Global name_x) (Var 1 sort.List)) ∷ []) }) }) ∷ []) }) (record { is_void = false; name = name_main; params = ([]); vars = []; pre = (record { opened = []; facts = ([]); locals = []; items = ((Data (Number (pos 64)) (Global name_g) (Of2 binary.Cons (Of unary.Vi (Number (pos 3))) Nil)) ∷ (Data (Number (pos 64)) (Global name_arr) (Of2 binary.Cons (Of unary.Vi (Number (pos 1))) (Of2 binary.Cons (Of unary.Vi (Number (pos 2))) (Of2 binary.Cons (Of unary.Vi (Number (pos 0))) (Of2 binary.Cons (Of unary.Vi (Number (pos 0))) Nil))))) ∷ (Data (Number (pos 64)) (Global name_x) (Of2 binary.Cons (Of unary.Vi (Number (pos 3))) Nil)) ∷ []) }); post = (record { opened = (sort.List ∷ sort.List ∷ []); facts = ([]); locals = []; items = ((Data (Number (pos 64)) (Global name_g) (Var 1 sort.List)) ∷ (Data (Number (pos 64)) (Global name_arr) (Var 2 sort.List)) ∷ (Data (Number (pos 64)) (Global name_x) (Var 1 sort.List)) ∷ []) }) }) (record { temps = (name_s ∷ name_t ∷ name_i ∷ name_x1 ∷ name_d0 ∷ name_p1 ∷ name_q1 ∷ []); body = (c.Then (c.Set 0 (c.Const 1)) (c.Then (c.Set 1 (c.Const 2)) (c.Then (c.Set 2 (c.Const 0)) (c.Then (c.Loop (c.Then (c.If (c.Nonzero kind.Signed (c.Binary two.Lt kind.Signed (c.Temp 2) (c.Const 4))) (c.Then (c.Set 4 (c.Const 1)) (c.Then (c.Set 2 (c.Binary two.Add kind.Signed (c.Temp 2) (c.Const 1))) (c.Then c.Skip c.End))) (c.Then c.Break c.End)) c.End)) (c.Then (c.Set 1 (c.Binary two.Add kind.Signed (c.Const 1) (c.Const 1))) (c.Then (c.Set 3 (c.Binary two.Shl kind.Unsigned (c.Const 1) (c.Const 4))) (c.Then (c.Return (Some (c.Binary two.Add kind.Signed (c.Const 2) (c.Const 2)))) c.End))))))) }) (s.Then 1 (s.Set ([]) ([])) s.NoBlock (s.Then 2 (s.Set ([]) ([])) s.NoBlock (s.Then 3 (s.Set ([]) ([])) s.NoBlock (s.Then 4 (s.While (record { opened = (sort.Int ∷ []); facts = ((Rel relation.Le (Number (pos 0)) (Var 0 sort.Int)) ∷ (Rel relation.Le (Var 0 sort.Int) (Number (pos 4))) ∷ []); locals = ((name_s, (Of unary.Vi (Number (pos 1)))) ∷ (name_t, (Of unary.Vi (Number (pos 2)))) ∷ (name_i, (Of unary.Vi (Var 0 sort.Int))) ∷ []); items = ((Data (Number (pos 64)) (Global name_g) (Of2 binary.Cons (Of unary.Vi (Number (pos 3))) Nil)) ∷ (Data (Number (pos 64)) (Global name_arr) (Of2 binary.Cons (Of unary.Vi (Number (pos 1))) (Of2 binary.Cons (Of unary.Vi (Number (pos 2))) (Of2 binary.Cons (Of unary.Vi (Number (pos 0))) (Of2 binary.Cons (Of unary.Vi (Number (pos 0))) Nil))))) ∷ (Data (Number (pos 64)) (Global name_x) (Of2 binary.Cons (Of unary.Vi (Number (pos 3))) Nil)) ∷ []) }) (record { opened = (sort.Int ∷ []); facts = ((Rel relation.Le (Number (pos 0)) (Var 0 sort.Int)) ∷ (Rel relation.Le (Var 0 sort.Int) (Number (pos 4))) ∷ (Rel relation.Le (Number (pos 4)) (Var 0 sort.Int)) ∷ []); locals = ((name_s, (Of unary.Vi (Number (pos 1)))) ∷ (name_t, (Of unary.Vi (Number (pos 2)))) ∷ (name_i, (Of unary.Vi (Var 0 sort.Int))) ∷ []); items = ((Data (Number (pos 64)) (Global name_g) (Of2 binary.Cons (Of unary.Vi (Number (pos 3))) Nil)) ∷ (Data (Number (pos 64)) (Global name_arr) (Of2 binary.Cons (Of unary.Vi (Number (pos 1))) (Of2 binary.Cons (Of unary.Vi (Number (pos 2))) (Of2 binary.Cons (Of unary.Vi (Number (pos 0))) (Of2 binary.Cons (Of unary.Vi (Number (pos 0))) Nil))))) ∷ (Data (Number (pos 64)) (Global name_x) (Of2 binary.Cons (Of unary.Vi (Number (pos 3))) Nil)) ∷ []) }) (name_k2 ∷ []) ([]) (name_k1 ∷ [])) (s.WithBlock (s.Then 5 (s.Meet ((Number (pos 0)) ∷ []) ([])) s.NoBlock s.End) (s.WithBlock (s.Then 6 (s.If ([]) ((record { lines = ((line.Comb (((pos 1), 0) ∷ ((pos 1), 2) ∷ [])) ∷ []) }) ∷ (record { lines = ((line.Comb (((pos 1), 1) ∷ ((pos 1), 2) ∷ [])) ∷ []) }) ∷ []) ([]) ([])) (s.WithBlock (s.Then 7 (s.Set ([]) ([])) s.NoBlock (s.Then 8 (s.Set ([]) ((record { lines = ((line.Comb (((pos 1), 0) ∷ ((pos 1), 3) ∷ [])) ∷ []) }) ∷ (record { lines = ((line.Comb (((pos 1), 1) ∷ ((pos 1), 3) ∷ [])) ∷ []) }) ∷ (record { lines = ((line.Comb (((pos 1), 0) ∷ ((pos 1), 3) ∷ [])) ∷ []) }) ∷ (record { lines = ((line.Comb (((pos 1), 1) ∷ ((pos 1), 3) ∷ [])) ∷ []) }) ∷ [])) s.NoBlock (s.Then 9 s.Skip s.NoBlock (s.Then 10 (s.Fall ((Of2 binary.Add (Named name_k1) (Number (pos 1))) ∷ []) ((record { lines = ((line.Comb (((pos 1), 0) ∷ ((pos 1), 3) ∷ [])) ∷ []) }) ∷ [])) s.NoBlock s.End)))) (s.WithBlock (s.Then 11 (s.Break ((Named name_k1) ∷ []) ([])) s.NoBlock s.End) s.NoBlock)) s.End) s.NoBlock)) (s.Then 12 (s.Naming name_k3 (Global name_arr)) s.NoBlock (s.Then 13 (s.Set ([]) ([])) s.NoBlock (s.Then 14 (s.Bounds 2 None ([])) s.NoBlock (s.Then 15 (s.Set ([]) ([])) s.NoBlock (s.Then 16 (s.Return ((Of2 binary.Cons (Of unary.Vi (Number (pos 3))) Nil) ∷ (Of2 binary.Cons (Of unary.Vi (Number (pos 1))) (Of2 binary.Cons (Of unary.Vi (Number (pos 2))) (Of2 binary.Cons (Of unary.Vi (Number (pos 0))) (Of2 binary.Cons (Of unary.Vi (Number (pos 0))) Nil)))) ∷ []) ([]) ([])) s.NoBlock s.End))))))))) ≡ Accepted
unfolding computing
random_226 = refl

random_227 : body_verdict (record { predicates = ([]); specs = ((record { is_void = false; name = name_main; params = ([]); vars = []; pre = (record { opened = []; facts = ([]); locals = []; items = ((Data (Number (pos 64)) (Global name_g) (Of2 binary.Cons (Of unary.Vi (Number (pos 3))) Nil)) ∷ (Data (Number (pos 64)) (Global name_arr) (Of2 binary.Cons (Of unary.Vi (Number (pos 1))) (Of2 binary.Cons (Of unary.Vi (Number (pos 2))) (Of2 binary.Cons (Of unary.Vi (Number (pos 0))) (Of2 binary.Cons (Of unary.Vi (Number (pos 0))) Nil))))) ∷ (Data (Number (pos 64)) (Global name_x) (Of2 binary.Cons (Of unary.Vi (Number (pos 3))) Nil)) ∷ []) }); post = (record { opened = (sort.List ∷ sort.List ∷ []); facts = ([]); locals = []; items = ((Data (Number (pos 64)) (Global name_g) (Var 1 sort.List)) ∷ (Data (Number (pos 64)) (Global name_arr) (Var 2 sort.List)) ∷ (Data (Number (pos 64)) (Global name_x) (Var 1 sort.List)) ∷ []) }) }) ∷ []) }) (record { is_void = false; name = name_main; params = ([]); vars = []; pre = (record { opened = []; facts = ([]); locals = []; items = ((Data (Number (pos 64)) (Global name_g) (Of2 binary.Cons (Of unary.Vi (Number (pos 3))) Nil)) ∷ (Data (Number (pos 64)) (Global name_arr) (Of2 binary.Cons (Of unary.Vi (Number (pos 1))) (Of2 binary.Cons (Of unary.Vi (Number (pos 2))) (Of2 binary.Cons (Of unary.Vi (Number (pos 0))) (Of2 binary.Cons (Of unary.Vi (Number (pos 0))) Nil))))) ∷ (Data (Number (pos 64)) (Global name_x) (Of2 binary.Cons (Of unary.Vi (Number (pos 3))) Nil)) ∷ []) }); post = (record { opened = (sort.List ∷ sort.List ∷ []); facts = ([]); locals = []; items = ((Data (Number (pos 64)) (Global name_g) (Var 1 sort.List)) ∷ (Data (Number (pos 64)) (Global name_arr) (Var 2 sort.List)) ∷ (Data (Number (pos 64)) (Global name_x) (Var 1 sort.List)) ∷ []) }) }) (record { temps = (name_s ∷ name_t ∷ name_i ∷ name_x1 ∷ name_d0 ∷ name_p1 ∷ name_q1 ∷ []); body = (c.Then (c.Set 0 (c.Const 1)) (c.Then (c.Set 1 (c.Const 2)) (c.Then (c.Set 2 (c.Const 0)) (c.Then (c.Loop (c.Then (c.If (c.Nonzero kind.Signed (c.Binary two.Lt kind.Signed (c.Temp 2) (c.Const 4))) (c.Then (c.Set 4 (c.Const 1)) (c.Then (c.Set 2 (c.Binary two.Add kind.Signed (c.Temp 2) (c.Const 1))) (c.Then c.Skip c.End))) (c.Then c.Break c.End)) c.End)) (c.Then (c.Set 1 (c.Binary two.Add kind.Signed (c.Const 1) (c.Const 1))) (c.Then (c.Set 3 (c.Binary two.Shl kind.Unsigned (c.Const 1) (c.Const 4))) (c.Then (c.Return (Some (c.Binary two.Add kind.Signed (c.Const 2) (c.Const 2)))) c.End))))))) }) (s.Then 1 (s.Set ([]) ([])) s.NoBlock (s.Then 2 (s.Set ([]) ([])) s.NoBlock (s.Then 3 (s.Set ([]) ([])) s.NoBlock (s.Then 4 (s.While (record { opened = (sort.Int ∷ []); facts = ((Rel relation.Le (Number (pos 0)) (Var 0 sort.Int)) ∷ (Rel relation.Le (Var 0 sort.Int) (Number (pos 4))) ∷ []); locals = ((name_s, (Of unary.Vi (Number (pos 1)))) ∷ (name_t, (Of unary.Vi (Number (pos 2)))) ∷ (name_i, (Of unary.Vi (Var 0 sort.Int))) ∷ []); items = ((Data (Number (pos 64)) (Global name_g) (Of2 binary.Cons (Of unary.Vi (Number (pos 3))) Nil)) ∷ (Data (Number (pos 64)) (Global name_arr) (Of2 binary.Cons (Of unary.Vi (Number (pos 1))) (Of2 binary.Cons (Of unary.Vi (Number (pos 2))) (Of2 binary.Cons (Of unary.Vi (Number (pos 0))) (Of2 binary.Cons (Of unary.Vi (Number (pos 0))) Nil))))) ∷ (Data (Number (pos 64)) (Global name_x) (Of2 binary.Cons (Of unary.Vi (Number (pos 3))) Nil)) ∷ []) }) (record { opened = (sort.Int ∷ []); facts = ((Rel relation.Le (Number (pos 31)) (Var 0 sort.Int)) ∷ (Rel relation.Le (Var 0 sort.Int) (Number (pos 4))) ∷ (Rel relation.Le (Number (pos 4)) (Var 0 sort.Int)) ∷ []); locals = ((name_s, (Of unary.Vi (Number (pos 1)))) ∷ (name_t, (Of unary.Vi (Number (pos 2)))) ∷ (name_i, (Of unary.Vi (Var 0 sort.Int))) ∷ []); items = ((Data (Number (pos 64)) (Global name_g) (Of2 binary.Cons (Of unary.Vi (Number (pos 3))) Nil)) ∷ (Data (Number (pos 64)) (Global name_arr) (Of2 binary.Cons (Of unary.Vi (Number (pos 1))) (Of2 binary.Cons (Of unary.Vi (Number (pos 2))) (Of2 binary.Cons (Of unary.Vi (Number (pos 0))) (Of2 binary.Cons (Of unary.Vi (Number (pos 0))) Nil))))) ∷ (Data (Number (pos 64)) (Global name_x) (Of2 binary.Cons (Of unary.Vi (Number (pos 3))) Nil)) ∷ []) }) (name_k2 ∷ []) ([]) (name_k1 ∷ [])) (s.WithBlock (s.Then 5 (s.Meet ((Number (pos 0)) ∷ []) ([])) s.NoBlock s.End) (s.WithBlock (s.Then 6 (s.If ([]) ((record { lines = ((line.Comb (((pos 1), 0) ∷ ((pos 1), 2) ∷ [])) ∷ []) }) ∷ (record { lines = ((line.Comb (((pos 1), 1) ∷ ((pos 1), 2) ∷ [])) ∷ []) }) ∷ []) ([]) ([])) (s.WithBlock (s.Then 7 (s.Set ([]) ([])) s.NoBlock (s.Then 8 (s.Set ([]) ((record { lines = ((line.Comb (((pos 1), 0) ∷ ((pos 1), 3) ∷ [])) ∷ []) }) ∷ (record { lines = ((line.Comb (((pos 1), 1) ∷ ((pos 1), 3) ∷ [])) ∷ []) }) ∷ (record { lines = ((line.Comb (((pos 1), 0) ∷ ((pos 1), 3) ∷ [])) ∷ []) }) ∷ (record { lines = ((line.Comb (((pos 1), 0) ∷ ((pos 1), 3) ∷ [])) ∷ []) }) ∷ (record { lines = ((line.Comb (((pos 1), 1) ∷ ((pos 1), 3) ∷ [])) ∷ []) }) ∷ [])) s.NoBlock (s.Then 9 s.Skip s.NoBlock (s.Then 10 (s.Fall ((Of2 binary.Add (Named name_k1) (Number (pos 1))) ∷ []) ((record { lines = ((line.Comb (((pos 1), 0) ∷ ((pos 1), 3) ∷ [])) ∷ []) }) ∷ [])) s.NoBlock s.End)))) (s.WithBlock (s.Then 11 (s.Break ((Named name_k1) ∷ []) ([])) s.NoBlock s.End) s.NoBlock)) s.End) s.NoBlock)) (s.Then 12 (s.Naming name_k3 (Global name_arr)) s.NoBlock (s.Then 13 (s.Set ([]) ([])) s.NoBlock (s.Then 14 (s.Bounds 2 None ([])) s.NoBlock (s.Then 15 (s.Set ([]) ([])) s.NoBlock (s.Then 16 (s.Return ((Of2 binary.Cons (Of unary.Vi (Number (pos 3))) Nil) ∷ (Of2 binary.Cons (Of unary.Vi (Number (pos 1))) (Of2 binary.Cons (Of unary.Vi (Number (pos 2))) (Of2 binary.Cons (Of unary.Vi (Number (pos 0))) (Of2 binary.Cons (Of unary.Vi (Number (pos 0))) Nil)))) ∷ []) ([]) ([])) s.NoBlock s.End))))))))) ≡ (RefusedAt 8 2 3)
unfolding computing
random_227 = refl

random_228 : body_verdict (record { predicates = ([]); specs = ((record { is_void = false; name = name_main; params = ([]); vars = []; pre = (record { opened = []; facts = ([]); locals = []; items = ((Data (Number (pos 64)) (Global name_g) (Of2 binary.Cons (Of unary.Vi (Number (pos 3))) Nil)) ∷ (Data (Number (pos 64)) (Global name_arr) (Of2 binary.Cons (Of unary.Vi (Number (pos 1))) (Of2 binary.Cons (Of unary.Vi (Number (pos 2))) (Of2 binary.Cons (Of unary.Vi (Number (pos 0))) (Of2 binary.Cons (Of unary.Vi (Number (pos 0))) Nil))))) ∷ (Data (Number (pos 64)) (Global name_x) (Of2 binary.Cons (Of unary.Vi (Number (pos 3))) Nil)) ∷ []) }); post = (record { opened = (sort.List ∷ sort.List ∷ []); facts = ([]); locals = []; items = ((Data (Number (pos 64)) (Global name_g) (Var 1 sort.List)) ∷ (Data (Number (pos 64)) (Global name_arr) (Var 2 sort.List)) ∷ (Data (Number (pos 64)) (Global name_x) (Var 1 sort.List)) ∷ []) }) }) ∷ []) }) (record { is_void = false; name = name_main; params = ([]); vars = []; pre = (record { opened = []; facts = ([]); locals = []; items = ((Data (Number (pos 64)) (Global name_g) (Of2 binary.Cons (Of unary.Vi (Number (pos 3))) Nil)) ∷ (Data (Number (pos 64)) (Global name_arr) (Of2 binary.Cons (Of unary.Vi (Number (pos 1))) (Of2 binary.Cons (Of unary.Vi (Number (pos 2))) (Of2 binary.Cons (Of unary.Vi (Number (pos 0))) (Of2 binary.Cons (Of unary.Vi (Number (pos 0))) Nil))))) ∷ (Data (Number (pos 64)) (Global name_x) (Of2 binary.Cons (Of unary.Vi (Number (pos 3))) Nil)) ∷ []) }); post = (record { opened = (sort.List ∷ sort.List ∷ []); facts = ([]); locals = []; items = ((Data (Number (pos 64)) (Global name_g) (Var 1 sort.List)) ∷ (Data (Number (pos 64)) (Global name_arr) (Var 2 sort.List)) ∷ (Data (Number (pos 64)) (Global name_x) (Var 1 sort.List)) ∷ []) }) }) (record { temps = (name_s ∷ name_t ∷ name_i ∷ name_x1 ∷ name_d0 ∷ name_p1 ∷ name_q1 ∷ []); body = (c.Then (c.Set 0 (c.Const 1)) (c.Then (c.Set 1 (c.Const 2)) (c.Then (c.Set 2 (c.Const 0)) (c.Then (c.Loop (c.Then (c.If (c.Nonzero kind.Signed (c.Binary two.Lt kind.Signed (c.Temp 2) (c.Const 4))) (c.Then (c.Set 4 (c.Const 1)) (c.Then (c.Set 2 (c.Binary two.Add kind.Signed (c.Temp 2) (c.Const 1))) (c.Then c.Skip c.End))) (c.Then c.Break c.End)) c.End)) (c.Then (c.Set 1 (c.Binary two.Add kind.Signed (c.Const 1) (c.Const 1))) (c.Then (c.Set 3 (c.Binary two.Shl kind.Unsigned (c.Const 1) (c.Const 4))) (c.Then (c.Return (Some (c.Binary two.Add kind.Signed (c.Const 2) (c.Const 2)))) c.End))))))) }) (s.Then 1 (s.Set ([]) ([])) s.NoBlock (s.Then 2 (s.Set ([]) ([])) s.NoBlock (s.Then 3 (s.Set ([]) ([])) s.NoBlock (s.Then 4 (s.While (record { opened = (sort.Int ∷ []); facts = ((Rel relation.Le (Number (pos 0)) (Var 0 sort.Int)) ∷ (Rel relation.Le (Var 0 sort.Int) (Number (pos 4))) ∷ []); locals = ((name_s, (Of unary.Vi (Number (pos 1)))) ∷ (name_t, (Of unary.Vi (Number (pos 2)))) ∷ (name_i, (Of unary.Vi (Var 0 sort.Int))) ∷ []); items = ((Data (Number (pos 64)) (Global name_g) (Of2 binary.Cons (Of unary.Vi (Number (pos 3))) Nil)) ∷ (Data (Number (pos 64)) (Global name_arr) (Of2 binary.Cons (Of unary.Vi (Number (pos 1))) (Of2 binary.Cons (Of unary.Vi (Number (pos 2))) (Of2 binary.Cons (Of unary.Vi (Number (pos 0))) (Of2 binary.Cons (Of unary.Vi (Number (pos 0))) Nil))))) ∷ (Data (Number (pos 64)) (Global name_x) (Of2 binary.Cons (Of unary.Vi (Number (pos 3))) Nil)) ∷ []) }) (record { opened = (sort.Int ∷ []); facts = ((Rel relation.Le (Number (pos 0)) (Var 0 sort.Int)) ∷ (Rel relation.Le (Var 0 sort.Int) (Number (pos 4))) ∷ (Rel relation.Le (Number (pos 4)) (Var 0 sort.Int)) ∷ []); locals = ((name_s, (Of unary.Vi (Number (pos 1)))) ∷ (name_t, (Of unary.Vi (Number (pos 2)))) ∷ (name_i, (Of unary.Vi (Var 0 sort.Int))) ∷ []); items = ((Data (Number (pos 64)) (Global name_g) (Of2 binary.Cons (Of unary.Vi (Number (pos 3))) Nil)) ∷ (Data (Number (pos 64)) (Global name_arr) (Of2 binary.Cons (Of unary.Vi (Number (pos 1))) (Of2 binary.Cons (Of unary.Vi (Number (pos 2))) (Of2 binary.Cons (Of unary.Vi (Number (pos 0))) (Of2 binary.Cons (Of unary.Vi (Number (pos 0))) Nil))))) ∷ (Data (Number (pos 64)) (Global name_x) (Of2 binary.Cons (Of unary.Vi (Number (pos 3))) Nil)) ∷ []) }) (name_k2 ∷ []) ([]) (name_k1 ∷ [])) (s.WithBlock (s.Then 5 (s.Meet ((Number (pos 0)) ∷ []) ([])) s.NoBlock s.End) (s.WithBlock (s.Then 6 (s.If ([]) ((record { lines = ((line.Comb (((pos 1), 0) ∷ ((pos 1), 2) ∷ [])) ∷ []) }) ∷ (record { lines = ((line.Comb (((pos 1), 1) ∷ ((pos 1), 2) ∷ [])) ∷ []) }) ∷ []) ([]) ([])) (s.WithBlock (s.Then 7 (s.Set ([]) ([])) s.NoBlock (s.Then 8 (s.Set ([]) ((record { lines = ((line.Comb (((pos 1), 0) ∷ ((pos 1), 3) ∷ [])) ∷ []) }) ∷ (record { lines = ((line.Comb (((pos 1), 1) ∷ ((pos 1), 3) ∷ [])) ∷ []) }) ∷ (record { lines = ((line.Comb (((pos 1), 0) ∷ ((pos 1), 3) ∷ [])) ∷ []) }) ∷ (record { lines = ((line.Comb (((pos 1), 1) ∷ ((pos 1), 3) ∷ [])) ∷ []) }) ∷ [])) s.NoBlock (s.Then 9 s.Skip s.NoBlock (s.Then 10 (s.Fall ((Of2 binary.Add (Named name_k1) (Number (pos 1))) ∷ []) ((record { lines = ((line.Comb (((pos 1), 0) ∷ ((pos 1), 3) ∷ [])) ∷ []) }) ∷ [])) s.NoBlock s.End)))) (s.WithBlock (s.Then 11 (s.Break ((Named name_k1) ∷ []) ([])) s.NoBlock s.End) s.NoBlock)) s.End) s.NoBlock)) (s.Then 12 (s.Naming name_k3 (Global name_arr)) s.NoBlock (s.Then 13 (s.Bounds 2 None ([])) s.NoBlock (s.Then 14 (s.Set ([]) ([])) s.NoBlock (s.Then 15 (s.Return ((Of2 binary.Cons (Of unary.Vi (Number (pos 3))) Nil) ∷ (Of2 binary.Cons (Of unary.Vi (Number (pos 1))) (Of2 binary.Cons (Of unary.Vi (Number (pos 2))) (Of2 binary.Cons (Of unary.Vi (Number (pos 0))) (Of2 binary.Cons (Of unary.Vi (Number (pos 0))) Nil)))) ∷ []) ([]) ([])) s.NoBlock s.End)))))))) ≡ (RefusedAt 15 9 1)
unfolding computing
random_228 = refl

random_229 : body_verdict (record { predicates = ([]); specs = ((record { is_void = false; name = name_main; params = ([]); vars = []; pre = (record { opened = []; facts = ([]); locals = []; items = ((Data (Number (pos 64)) (Global name_g) (Of2 binary.Cons (Of unary.Vi (Number (pos 3))) Nil)) ∷ (Data (Number (pos 64)) (Global name_arr) (Of2 binary.Cons (Of unary.Vi (Number (pos 1))) (Of2 binary.Cons (Of unary.Vi (Number (pos 2))) (Of2 binary.Cons (Of unary.Vi (Number (pos 0))) (Of2 binary.Cons (Of unary.Vi (Number (pos 0))) Nil))))) ∷ (Data (Number (pos 64)) (Global name_x) (Of2 binary.Cons (Of unary.Vi (Number (pos 3))) Nil)) ∷ []) }); post = (record { opened = (sort.List ∷ sort.List ∷ []); facts = ([]); locals = []; items = ((Data (Number (pos 64)) (Global name_g) (Var 1 sort.List)) ∷ (Data (Number (pos 64)) (Global name_arr) (Var 2 sort.List)) ∷ (Data (Number (pos 64)) (Global name_x) (Var 1 sort.List)) ∷ []) }) }) ∷ []) }) (record { is_void = false; name = name_main; params = ([]); vars = []; pre = (record { opened = []; facts = ([]); locals = []; items = ((Data (Number (pos 64)) (Global name_g) (Of2 binary.Cons (Of unary.Vi (Number (pos 3))) Nil)) ∷ (Data (Number (pos 64)) (Global name_arr) (Of2 binary.Cons (Of unary.Vi (Number (pos 1))) (Of2 binary.Cons (Of unary.Vi (Number (pos 2))) (Of2 binary.Cons (Of unary.Vi (Number (pos 0))) (Of2 binary.Cons (Of unary.Vi (Number (pos 0))) Nil))))) ∷ (Data (Number (pos 64)) (Global name_x) (Of2 binary.Cons (Of unary.Vi (Number (pos 3))) Nil)) ∷ []) }); post = (record { opened = (sort.List ∷ sort.List ∷ []); facts = ([]); locals = []; items = ((Data (Number (pos 64)) (Global name_g) (Var 1 sort.List)) ∷ (Data (Number (pos 64)) (Global name_arr) (Var 2 sort.List)) ∷ (Data (Number (pos 64)) (Global name_x) (Var 1 sort.List)) ∷ []) }) }) (record { temps = (name_s ∷ name_t ∷ name_i ∷ name_x1 ∷ name_d0 ∷ name_p1 ∷ name_q1 ∷ []); body = (c.Then (c.Set 0 (c.Const 1)) (c.Then (c.Set 1 (c.Const 2)) (c.Then (c.Set 2 (c.Const 0)) (c.Then (c.Loop (c.Then (c.If (c.Nonzero kind.Signed (c.Binary two.Lt kind.Signed (c.Temp 2) (c.Const 4))) (c.Then (c.Set 4 (c.Const 1)) (c.Then (c.Set 2 (c.Binary two.Add kind.Signed (c.Temp 2) (c.Const 1))) (c.Then c.Skip c.End))) (c.Then c.Break c.End)) c.End)) (c.Then (c.Set 1 (c.Binary two.Add kind.Signed (c.Const 1) (c.Const 1))) (c.Then (c.Set 3 (c.Binary two.Shl kind.Unsigned (c.Const 1) (c.Const 4))) (c.Then (c.Return (Some (c.Binary two.Add kind.Signed (c.Const 2) (c.Const 2)))) c.End))))))) }) (s.Then 1 (s.Set ([]) ([])) s.NoBlock (s.Then 2 (s.Set ([]) ([])) s.NoBlock (s.Then 3 (s.Set ([]) ([])) s.NoBlock (s.Then 4 (s.While (record { opened = (sort.Int ∷ []); facts = ((Rel relation.Le (Number (pos 0)) (Var 0 sort.Int)) ∷ (Rel relation.Le (Var 0 sort.Int) (Number (pos 4))) ∷ []); locals = ((name_s, (Of unary.Vi (Number (pos 1)))) ∷ (name_t, (Of unary.Vi (Number (pos 2)))) ∷ (name_i, (Of unary.Vi (Var 0 sort.Int))) ∷ []); items = ((Data (Number (pos 64)) (Global name_g) (Of2 binary.Cons (Of unary.Vi (Number (pos 3))) Nil)) ∷ (Data (Number (pos 64)) (Global name_arr) (Of2 binary.Cons (Of unary.Vi (Number (pos 1))) (Of2 binary.Cons (Of unary.Vi (Number (pos 2))) (Of2 binary.Cons (Of unary.Vi (Number (pos 0))) (Of2 binary.Cons (Of unary.Vi (Number (pos 0))) Nil))))) ∷ (Data (Number (pos 64)) (Global name_x) (Of2 binary.Cons (Of unary.Vi (Number (pos 3))) Nil)) ∷ []) }) (record { opened = (sort.Int ∷ []); facts = ((Rel relation.Le (Number (pos 0)) (Var 0 sort.Int)) ∷ (Rel relation.Le (Var 0 sort.Int) (Number (pos 4))) ∷ (Rel relation.Le (Number (pos 4)) (Var 0 sort.Int)) ∷ []); locals = ((name_s, (Of unary.Vi (Number (pos 1)))) ∷ (name_t, (Of unary.Vi (Number (pos 2)))) ∷ (name_i, (Of unary.Vi (Var 0 sort.Int))) ∷ []); items = ((Data (Number (pos 64)) (Global name_g) (Of2 binary.Cons (Of unary.Vi (Number (pos 3))) Nil)) ∷ (Data (Number (pos 64)) (Global name_arr) (Of2 binary.Cons (Of unary.Vi (Number (pos 1))) (Of2 binary.Cons (Of unary.Vi (Number (pos 2))) (Of2 binary.Cons (Of unary.Vi (Number (pos 0))) (Of2 binary.Cons (Of unary.Vi (Number (pos 0))) Nil))))) ∷ (Data (Number (pos 64)) (Global name_x) (Of2 binary.Cons (Of unary.Vi (Number (pos 3))) Nil)) ∷ []) }) (name_k2 ∷ []) ([]) (name_k1 ∷ [])) (s.WithBlock (s.Then 5 (s.Meet ((Number (pos 0)) ∷ []) ([])) s.NoBlock s.End) (s.WithBlock (s.Then 6 (s.If ([]) ((record { lines = ((line.Comb (((pos 1), 0) ∷ ((pos 1), 2) ∷ [])) ∷ []) }) ∷ (record { lines = ((line.Comb (((pos 1), 1) ∷ ((pos 1), 2) ∷ [])) ∷ []) }) ∷ []) ([]) ([])) (s.WithBlock (s.Then 7 (s.Set ([]) ([])) s.NoBlock (s.Then 8 (s.Set ([]) ((record { lines = ((line.Comb (((pos 1), 0) ∷ ((pos 1), 3) ∷ [])) ∷ []) }) ∷ (record { lines = ((line.Comb (((pos 1), 1) ∷ ((pos 1), 3) ∷ [])) ∷ []) }) ∷ (record { lines = ((line.Comb (((pos 1), 0) ∷ ((pos 1), 3) ∷ [])) ∷ []) }) ∷ (record { lines = ((line.Comb (((pos 1), 1) ∷ ((pos 1), 3) ∷ [])) ∷ []) }) ∷ [])) s.NoBlock (s.Then 9 s.Skip s.NoBlock (s.Then 10 (s.Fall ((Of2 binary.Add (Named name_k1) (Number (pos 1))) ∷ []) ((record { lines = ((line.Comb (((pos 1), 0) ∷ ((pos 1), 2) ∷ [])) ∷ []) }) ∷ [])) s.NoBlock s.End)))) (s.WithBlock (s.Then 11 (s.Break ((Named name_k1) ∷ []) ([])) s.NoBlock s.End) s.NoBlock)) s.End) s.NoBlock)) (s.Then 12 (s.Naming name_k3 (Global name_arr)) s.NoBlock (s.Then 13 (s.Set ([]) ([])) s.NoBlock (s.Then 14 (s.Bounds 2 None ([])) s.NoBlock (s.Then 15 (s.Set ([]) ([])) s.NoBlock (s.Then 16 (s.Return ((Of2 binary.Cons (Of unary.Vi (Number (pos 3))) Nil) ∷ (Of2 binary.Cons (Of unary.Vi (Number (pos 1))) (Of2 binary.Cons (Of unary.Vi (Number (pos 2))) (Of2 binary.Cons (Of unary.Vi (Number (pos 0))) (Of2 binary.Cons (Of unary.Vi (Number (pos 0))) Nil)))) ∷ []) ([]) ([])) s.NoBlock s.End))))))))) ≡ (RefusedAt 10 10 3)
unfolding computing
random_229 = refl

random_230 : body_verdict (record { predicates = ([]); specs = ((record { is_void = false; name = name_main; params = ([]); vars = []; pre = (record { opened = []; facts = ([]); locals = []; items = ((Data (Number (pos 64)) (Global name_g) (Of2 binary.Cons (Of unary.Vi (Number (pos 3))) Nil)) ∷ (Data (Number (pos 64)) (Global name_arr) (Of2 binary.Cons (Of unary.Vi (Number (pos 1))) (Of2 binary.Cons (Of unary.Vi (Number (pos 2))) (Of2 binary.Cons (Of unary.Vi (Number (pos 0))) (Of2 binary.Cons (Of unary.Vi (Number (pos 0))) Nil))))) ∷ (Data (Number (pos 64)) (Global name_x) (Of2 binary.Cons (Of unary.Vi (Number (pos 3))) Nil)) ∷ []) }); post = (record { opened = (sort.List ∷ sort.List ∷ []); facts = ([]); locals = []; items = ((Data (Number (pos 64)) (Global name_g) (Var 1 sort.List)) ∷ (Data (Number (pos 64)) (Global name_arr) (Var 2 sort.List)) ∷ (Data (Number (pos 64)) (Global name_x) (Var 1 sort.List)) ∷ []) }) }) ∷ []) }) (record { is_void = false; name = name_main; params = ([]); vars = []; pre = (record { opened = []; facts = ([]); locals = []; items = ((Data (Number (pos 64)) (Global name_g) (Of2 binary.Cons (Of unary.Vi (Number (pos 3))) Nil)) ∷ (Data (Number (pos 64)) (Global name_arr) (Of2 binary.Cons (Of unary.Vi (Number (pos 1))) (Of2 binary.Cons (Of unary.Vi (Number (pos 2))) (Of2 binary.Cons (Of unary.Vi (Number (pos 0))) (Of2 binary.Cons (Of unary.Vi (Number (pos 0))) Nil))))) ∷ (Data (Number (pos 64)) (Global name_x) (Of2 binary.Cons (Of unary.Vi (Number (pos 3))) Nil)) ∷ []) }); post = (record { opened = (sort.List ∷ sort.List ∷ []); facts = ([]); locals = []; items = ((Data (Number (pos 64)) (Global name_g) (Var 1 sort.List)) ∷ (Data (Number (pos 64)) (Global name_arr) (Var 2 sort.List)) ∷ (Data (Number (pos 64)) (Global name_x) (Var 1 sort.List)) ∷ []) }) }) (record { temps = (name_s ∷ name_t ∷ name_i ∷ name_x1 ∷ name_d0 ∷ name_p1 ∷ name_q1 ∷ []); body = (c.Then (c.Set 0 (c.Const 1)) (c.Then (c.Set 1 (c.Const 2)) (c.Then (c.Set 2 (c.Const 0)) (c.Then (c.Loop (c.Then (c.If (c.Nonzero kind.Signed (c.Binary two.Lt kind.Signed (c.Temp 2) (c.Const 4))) (c.Then (c.Set 4 (c.Const 1)) (c.Then (c.Set 2 (c.Binary two.Add kind.Signed (c.Temp 2) (c.Const 1))) (c.Then c.Skip c.End))) (c.Then c.Break c.End)) c.End)) (c.Then (c.Set 1 (c.Binary two.Add kind.Signed (c.Const 1) (c.Const 1))) (c.Then (c.Set 3 (c.Binary two.Shl kind.Unsigned (c.Const 1) (c.Const 4))) (c.Then (c.Return (Some (c.Binary two.Add kind.Signed (c.Const 2) (c.Const 2)))) c.End))))))) }) (s.Then 1 (s.Set ([]) ([])) s.NoBlock (s.Then 2 (s.Set ([]) ([])) s.NoBlock (s.Then 3 (s.While (record { opened = (sort.Int ∷ []); facts = ((Rel relation.Le (Number (pos 0)) (Var 0 sort.Int)) ∷ (Rel relation.Le (Var 0 sort.Int) (Number (pos 4))) ∷ []); locals = ((name_s, (Of unary.Vi (Number (pos 1)))) ∷ (name_t, (Of unary.Vi (Number (pos 2)))) ∷ (name_i, (Of unary.Vi (Var 0 sort.Int))) ∷ []); items = ((Data (Number (pos 64)) (Global name_g) (Of2 binary.Cons (Of unary.Vi (Number (pos 3))) Nil)) ∷ (Data (Number (pos 64)) (Global name_arr) (Of2 binary.Cons (Of unary.Vi (Number (pos 1))) (Of2 binary.Cons (Of unary.Vi (Number (pos 2))) (Of2 binary.Cons (Of unary.Vi (Number (pos 0))) (Of2 binary.Cons (Of unary.Vi (Number (pos 0))) Nil))))) ∷ (Data (Number (pos 64)) (Global name_x) (Of2 binary.Cons (Of unary.Vi (Number (pos 3))) Nil)) ∷ []) }) (record { opened = (sort.Int ∷ []); facts = ((Rel relation.Le (Number (pos 0)) (Var 0 sort.Int)) ∷ (Rel relation.Le (Var 0 sort.Int) (Number (pos 4))) ∷ (Rel relation.Le (Number (pos 4)) (Var 0 sort.Int)) ∷ []); locals = ((name_s, (Of unary.Vi (Number (pos 1)))) ∷ (name_t, (Of unary.Vi (Number (pos 2)))) ∷ (name_i, (Of unary.Vi (Var 0 sort.Int))) ∷ []); items = ((Data (Number (pos 64)) (Global name_g) (Of2 binary.Cons (Of unary.Vi (Number (pos 3))) Nil)) ∷ (Data (Number (pos 64)) (Global name_arr) (Of2 binary.Cons (Of unary.Vi (Number (pos 1))) (Of2 binary.Cons (Of unary.Vi (Number (pos 2))) (Of2 binary.Cons (Of unary.Vi (Number (pos 0))) (Of2 binary.Cons (Of unary.Vi (Number (pos 0))) Nil))))) ∷ (Data (Number (pos 64)) (Global name_x) (Of2 binary.Cons (Of unary.Vi (Number (pos 3))) Nil)) ∷ []) }) (name_k2 ∷ []) ([]) (name_k1 ∷ [])) (s.WithBlock (s.Then 4 (s.Meet ((Number (pos 0)) ∷ []) ([])) s.NoBlock s.End) (s.WithBlock (s.Then 5 (s.If ([]) ((record { lines = ((line.Comb (((pos 1), 0) ∷ ((pos 1), 2) ∷ [])) ∷ []) }) ∷ (record { lines = ((line.Comb (((pos 1), 1) ∷ ((pos 1), 2) ∷ [])) ∷ []) }) ∷ []) ([]) ([])) (s.WithBlock (s.Then 6 (s.Set ([]) ([])) s.NoBlock (s.Then 7 (s.Set ([]) ((record { lines = ((line.Comb (((pos 1), 0) ∷ ((pos 1), 3) ∷ [])) ∷ []) }) ∷ (record { lines = ((line.Comb (((pos 1), 1) ∷ ((pos 1), 3) ∷ [])) ∷ []) }) ∷ (record { lines = ((line.Comb (((pos 1), 0) ∷ ((pos 1), 3) ∷ [])) ∷ []) }) ∷ (record { lines = ((line.Comb (((pos 1), 1) ∷ ((pos 1), 3) ∷ [])) ∷ []) }) ∷ [])) s.NoBlock (s.Then 8 s.Skip s.NoBlock (s.Then 9 (s.Fall ((Of2 binary.Add (Named name_k1) (Number (pos 1))) ∷ []) ((record { lines = ((line.Comb (((pos 1), 0) ∷ ((pos 1), 3) ∷ [])) ∷ []) }) ∷ [])) s.NoBlock s.End)))) (s.WithBlock (s.Then 10 (s.Break ((Named name_k1) ∷ []) ([])) s.NoBlock s.End) s.NoBlock)) s.End) s.NoBlock)) (s.Then 11 (s.Naming name_k3 (Global name_arr)) s.NoBlock (s.Then 12 (s.Set ([]) ([])) s.NoBlock (s.Then 13 (s.Bounds 2 None ([])) s.NoBlock (s.Then 14 (s.Set ([]) ([])) s.NoBlock (s.Then 15 (s.Return ((Of2 binary.Cons (Of unary.Vi (Number (pos 3))) Nil) ∷ (Of2 binary.Cons (Of unary.Vi (Number (pos 1))) (Of2 binary.Cons (Of unary.Vi (Number (pos 2))) (Of2 binary.Cons (Of unary.Vi (Number (pos 0))) (Of2 binary.Cons (Of unary.Vi (Number (pos 0))) Nil)))) ∷ []) ([]) ([])) s.NoBlock s.End)))))))) ≡ (RefusedAt 3 6 1)
unfolding computing
random_230 = refl

random_231 : body_verdict (record { predicates = ([]); specs = ((record { is_void = false; name = name_main; params = ([]); vars = []; pre = (record { opened = []; facts = ([]); locals = []; items = ((Data (Number (pos 64)) (Global name_g) (Of2 binary.Cons (Of unary.Vi (Number (pos 5))) Nil)) ∷ (Data (Number (pos 64)) (Global name_arr) (Of2 binary.Cons (Of unary.Vi (Number (pos 1))) (Of2 binary.Cons (Of unary.Vi (Number (pos 2))) (Of2 binary.Cons (Of unary.Vi (Number (pos 0))) (Of2 binary.Cons (Of unary.Vi (Number (pos 0))) Nil))))) ∷ (Data (Number (pos 64)) (Global name_x) (Of2 binary.Cons (Of unary.Vi (Number (pos 3))) Nil)) ∷ []) }); post = (record { opened = (sort.List ∷ sort.List ∷ []); facts = ([]); locals = []; items = ((Data (Number (pos 64)) (Global name_g) (Var 1 sort.List)) ∷ (Data (Number (pos 64)) (Global name_arr) (Var 2 sort.List)) ∷ (Data (Number (pos 64)) (Global name_x) (Var 1 sort.List)) ∷ []) }) }) ∷ []) }) (record { is_void = false; name = name_main; params = ([]); vars = []; pre = (record { opened = []; facts = ([]); locals = []; items = ((Data (Number (pos 64)) (Global name_g) (Of2 binary.Cons (Of unary.Vi (Number (pos 5))) Nil)) ∷ (Data (Number (pos 64)) (Global name_arr) (Of2 binary.Cons (Of unary.Vi (Number (pos 1))) (Of2 binary.Cons (Of unary.Vi (Number (pos 2))) (Of2 binary.Cons (Of unary.Vi (Number (pos 0))) (Of2 binary.Cons (Of unary.Vi (Number (pos 0))) Nil))))) ∷ (Data (Number (pos 64)) (Global name_x) (Of2 binary.Cons (Of unary.Vi (Number (pos 3))) Nil)) ∷ []) }); post = (record { opened = (sort.List ∷ sort.List ∷ []); facts = ([]); locals = []; items = ((Data (Number (pos 64)) (Global name_g) (Var 1 sort.List)) ∷ (Data (Number (pos 64)) (Global name_arr) (Var 2 sort.List)) ∷ (Data (Number (pos 64)) (Global name_x) (Var 1 sort.List)) ∷ []) }) }) (record { temps = (name_s ∷ name_t ∷ name_i ∷ name_x1 ∷ name_d0 ∷ name_p1 ∷ name_q1 ∷ []); body = (c.Then (c.Set 0 (c.Const 1)) (c.Then (c.Set 1 (c.Const 2)) (c.Then (c.Set 2 (c.Const 0)) (c.Then (c.Loop (c.Then (c.If (c.Nonzero kind.Signed (c.Binary two.Lt kind.Signed (c.Temp 2) (c.Const 4))) (c.Then (c.Set 4 (c.Const 1)) (c.Then (c.Set 2 (c.Binary two.Add kind.Signed (c.Temp 2) (c.Const 1))) (c.Then c.Skip c.End))) (c.Then c.Break c.End)) c.End)) (c.Then (c.Set 1 (c.Binary two.Add kind.Signed (c.Const 1) (c.Const 1))) (c.Then (c.Set 3 (c.Binary two.Shl kind.Unsigned (c.Const 1) (c.Const 4))) (c.Then (c.Return (Some (c.Binary two.Add kind.Signed (c.Const 2) (c.Const 2)))) c.End))))))) }) (s.Then 1 (s.Set ([]) ([])) s.NoBlock (s.Then 2 (s.Set ([]) ([])) s.NoBlock (s.Then 3 (s.Set ([]) ([])) s.NoBlock (s.Then 4 (s.While (record { opened = (sort.Int ∷ []); facts = ((Rel relation.Le (Number (pos 0)) (Var 0 sort.Int)) ∷ (Rel relation.Le (Var 0 sort.Int) (Number (pos 4))) ∷ []); locals = ((name_s, (Of unary.Vi (Number (pos 1)))) ∷ (name_t, (Of unary.Vi (Number (pos 2)))) ∷ (name_i, (Of unary.Vi (Var 0 sort.Int))) ∷ []); items = ((Data (Number (pos 64)) (Global name_g) (Of2 binary.Cons (Of unary.Vi (Number (pos 3))) Nil)) ∷ (Data (Number (pos 64)) (Global name_arr) (Of2 binary.Cons (Of unary.Vi (Number (pos 1))) (Of2 binary.Cons (Of unary.Vi (Number (pos 2))) (Of2 binary.Cons (Of unary.Vi (Number (pos 0))) (Of2 binary.Cons (Of unary.Vi (Number (pos 0))) Nil))))) ∷ (Data (Number (pos 64)) (Global name_x) (Of2 binary.Cons (Of unary.Vi (Number (pos 3))) Nil)) ∷ []) }) (record { opened = (sort.Int ∷ []); facts = ((Rel relation.Le (Number (pos 0)) (Var 0 sort.Int)) ∷ (Rel relation.Le (Var 0 sort.Int) (Number (pos 4))) ∷ (Rel relation.Le (Number (pos 4)) (Var 0 sort.Int)) ∷ []); locals = ((name_s, (Of unary.Vi (Number (pos 1)))) ∷ (name_t, (Of unary.Vi (Number (pos 2)))) ∷ (name_i, (Of unary.Vi (Var 0 sort.Int))) ∷ []); items = ((Data (Number (pos 64)) (Global name_g) (Of2 binary.Cons (Of unary.Vi (Number (pos 3))) Nil)) ∷ (Data (Number (pos 64)) (Global name_arr) (Of2 binary.Cons (Of unary.Vi (Number (pos 1))) (Of2 binary.Cons (Of unary.Vi (Number (pos 2))) (Of2 binary.Cons (Of unary.Vi (Number (pos 0))) (Of2 binary.Cons (Of unary.Vi (Number (pos 0))) Nil))))) ∷ (Data (Number (pos 64)) (Global name_x) (Of2 binary.Cons (Of unary.Vi (Number (pos 3))) Nil)) ∷ []) }) (name_k2 ∷ []) ([]) (name_k1 ∷ [])) (s.WithBlock (s.Then 5 (s.Meet ((Number (pos 0)) ∷ []) ([])) s.NoBlock s.End) (s.WithBlock (s.Then 6 (s.If ([]) ((record { lines = ((line.Comb (((pos 1), 0) ∷ ((pos 1), 2) ∷ [])) ∷ []) }) ∷ (record { lines = ((line.Comb (((pos 1), 1) ∷ ((pos 1), 2) ∷ [])) ∷ []) }) ∷ []) ([]) ([])) (s.WithBlock (s.Then 7 (s.Set ([]) ([])) s.NoBlock (s.Then 8 (s.Set ([]) ((record { lines = ((line.Comb (((pos 1), 0) ∷ ((pos 1), 3) ∷ [])) ∷ []) }) ∷ (record { lines = ((line.Comb (((pos 1), 1) ∷ ((pos 1), 3) ∷ [])) ∷ []) }) ∷ (record { lines = ((line.Comb (((pos 1), 0) ∷ ((pos 1), 3) ∷ [])) ∷ []) }) ∷ (record { lines = ((line.Comb (((pos 1), 1) ∷ ((pos 1), 3) ∷ [])) ∷ []) }) ∷ [])) s.NoBlock (s.Then 9 s.Skip s.NoBlock (s.Then 10 (s.Fall ((Of2 binary.Add (Named name_k1) (Number (pos 1))) ∷ []) ((record { lines = ((line.Comb (((pos 1), 0) ∷ ((pos 1), 3) ∷ [])) ∷ []) }) ∷ [])) s.NoBlock s.End)))) (s.WithBlock (s.Then 11 (s.Break ((Named name_k1) ∷ []) ([])) s.NoBlock s.End) s.NoBlock)) s.End) s.NoBlock)) (s.Then 12 (s.Naming name_k3 (Global name_arr)) s.NoBlock (s.Then 13 (s.Set ([]) ([])) s.NoBlock (s.Then 14 (s.Bounds 2 None ([])) s.NoBlock (s.Then 15 (s.Set ([]) ([])) s.NoBlock (s.Then 16 (s.Return ((Of2 binary.Cons (Of unary.Vi (Number (pos 3))) Nil) ∷ (Of2 binary.Cons (Of unary.Vi (Number (pos 1))) (Of2 binary.Cons (Of unary.Vi (Number (pos 2))) (Of2 binary.Cons (Of unary.Vi (Number (pos 0))) (Of2 binary.Cons (Of unary.Vi (Number (pos 0))) Nil)))) ∷ []) ([]) ([])) s.NoBlock s.End))))))))) ≡ (RefusedAt 5 37 5)
unfolding computing
random_231 = refl

random_232 : body_verdict (record { predicates = ([]); specs = ((record { is_void = false; name = name_main; params = ([]); vars = []; pre = (record { opened = []; facts = ([]); locals = []; items = ((Data (Number (pos 64)) (Global name_g) (Of2 binary.Cons (Of unary.Vi (Number (pos 3))) Nil)) ∷ (Data (Number (pos 64)) (Global name_arr) (Of2 binary.Cons (Of unary.Vi (Number (pos 1))) (Of2 binary.Cons (Of unary.Vi (Number (pos 2))) (Of2 binary.Cons (Of unary.Vi (Number (pos 0))) (Of2 binary.Cons (Of unary.Vi (Number (pos 0))) Nil))))) ∷ (Data (Number (pos 64)) (Global name_x) (Of2 binary.Cons (Of unary.Vi (Number (pos 3))) Nil)) ∷ []) }); post = (record { opened = (sort.List ∷ sort.List ∷ []); facts = ([]); locals = []; items = ((Data (Number (pos 64)) (Global name_g) (Var 1 sort.List)) ∷ (Data (Number (pos 64)) (Global name_arr) (Var 2 sort.List)) ∷ (Data (Number (pos 64)) (Global name_x) (Var 1 sort.List)) ∷ []) }) }) ∷ []) }) (record { is_void = false; name = name_main; params = ([]); vars = []; pre = (record { opened = []; facts = ([]); locals = []; items = ((Data (Number (pos 64)) (Global name_g) (Of2 binary.Cons (Of unary.Vi (Number (pos 3))) Nil)) ∷ (Data (Number (pos 64)) (Global name_arr) (Of2 binary.Cons (Of unary.Vi (Number (pos 1))) (Of2 binary.Cons (Of unary.Vi (Number (pos 2))) (Of2 binary.Cons (Of unary.Vi (Number (pos 0))) (Of2 binary.Cons (Of unary.Vi (Number (pos 0))) Nil))))) ∷ (Data (Number (pos 64)) (Global name_x) (Of2 binary.Cons (Of unary.Vi (Number (pos 3))) Nil)) ∷ []) }); post = (record { opened = (sort.List ∷ sort.List ∷ []); facts = ([]); locals = []; items = ((Data (Number (pos 64)) (Global name_g) (Var 1 sort.List)) ∷ (Data (Number (pos 64)) (Global name_arr) (Var 2 sort.List)) ∷ (Data (Number (pos 64)) (Global name_x) (Var 1 sort.List)) ∷ []) }) }) (record { temps = (name_s ∷ name_t ∷ name_i ∷ name_x1 ∷ name_d0 ∷ name_p1 ∷ name_q1 ∷ []); body = (c.Then (c.Set 0 (c.Const 1)) (c.Then (c.Set 1 (c.Const 2)) (c.Then (c.Set 2 (c.Const 0)) (c.Then (c.Loop (c.Then (c.If (c.Nonzero kind.Signed (c.Binary two.Lt kind.Signed (c.Temp 2) (c.Const 4))) (c.Then (c.Set 4 (c.Const 1)) (c.Then (c.Set 2 (c.Binary two.Add kind.Signed (c.Temp 2) (c.Const 1))) (c.Then c.Skip c.End))) (c.Then c.Break c.End)) c.End)) (c.Then (c.Set 1 (c.Binary two.Add kind.Signed (c.Const 1) (c.Const 1))) (c.Then (c.Set 3 (c.Binary two.Shl kind.Unsigned (c.Const 1) (c.Const 4))) (c.Then (c.Return (Some (c.Binary two.Add kind.Signed (c.Const 2) (c.Const 2)))) c.End))))))) }) (s.Then 1 (s.Set ([]) ([])) s.NoBlock (s.Then 2 (s.Set ([]) ([])) s.NoBlock (s.Then 3 (s.Set ([]) ([])) s.NoBlock (s.Then 4 (s.While (record { opened = (sort.Int ∷ []); facts = ((Rel relation.Le (Number (pos 0)) (Var 0 sort.Int)) ∷ (Rel relation.Le (Var 0 sort.Int) (Number (pos 4))) ∷ []); locals = ((name_s, (Of unary.Vi (Number (pos 1)))) ∷ (name_t, (Of unary.Vi (Number (pos 2)))) ∷ (name_i, (Of unary.Vi (Var 0 sort.Int))) ∷ []); items = ((Data (Number (pos 64)) (Global name_g) (Of2 binary.Cons (Of unary.Vi (Number (pos 3))) Nil)) ∷ (Data (Number (pos 64)) (Global name_arr) (Of2 binary.Cons (Of unary.Vi (Number (pos 1))) (Of2 binary.Cons (Of unary.Vi (Number (pos 1))) (Of2 binary.Cons (Of unary.Vi (Number (pos 0))) (Of2 binary.Cons (Of unary.Vi (Number (pos 0))) Nil))))) ∷ (Data (Number (pos 64)) (Global name_x) (Of2 binary.Cons (Of unary.Vi (Number (pos 3))) Nil)) ∷ []) }) (record { opened = (sort.Int ∷ []); facts = ((Rel relation.Le (Number (pos 0)) (Var 0 sort.Int)) ∷ (Rel relation.Le (Var 0 sort.Int) (Number (pos 4))) ∷ (Rel relation.Le (Number (pos 4)) (Var 0 sort.Int)) ∷ []); locals = ((name_s, (Of unary.Vi (Number (pos 1)))) ∷ (name_t, (Of unary.Vi (Number (pos 2)))) ∷ (name_i, (Of unary.Vi (Var 0 sort.Int))) ∷ []); items = ((Data (Number (pos 64)) (Global name_g) (Of2 binary.Cons (Of unary.Vi (Number (pos 3))) Nil)) ∷ (Data (Number (pos 64)) (Global name_arr) (Of2 binary.Cons (Of unary.Vi (Number (pos 1))) (Of2 binary.Cons (Of unary.Vi (Number (pos 2))) (Of2 binary.Cons (Of unary.Vi (Number (pos 0))) (Of2 binary.Cons (Of unary.Vi (Number (pos 0))) Nil))))) ∷ (Data (Number (pos 64)) (Global name_x) (Of2 binary.Cons (Of unary.Vi (Number (pos 3))) Nil)) ∷ []) }) (name_k2 ∷ []) ([]) (name_k1 ∷ [])) (s.WithBlock (s.Then 5 (s.Meet ((Number (pos 0)) ∷ []) ([])) s.NoBlock s.End) (s.WithBlock (s.Then 6 (s.If ([]) ((record { lines = ((line.Comb (((pos 1), 0) ∷ ((pos 1), 2) ∷ [])) ∷ []) }) ∷ (record { lines = ((line.Comb (((pos 1), 1) ∷ ((pos 1), 2) ∷ [])) ∷ []) }) ∷ []) ([]) ([])) (s.WithBlock (s.Then 7 (s.Set ([]) ([])) s.NoBlock (s.Then 8 (s.Set ([]) ((record { lines = ((line.Comb (((pos 1), 0) ∷ ((pos 1), 3) ∷ [])) ∷ []) }) ∷ (record { lines = ((line.Comb (((pos 1), 1) ∷ ((pos 1), 3) ∷ [])) ∷ []) }) ∷ (record { lines = ((line.Comb (((pos 1), 0) ∷ ((pos 1), 3) ∷ [])) ∷ []) }) ∷ (record { lines = ((line.Comb (((pos 1), 1) ∷ ((pos 1), 3) ∷ [])) ∷ []) }) ∷ [])) s.NoBlock (s.Then 9 s.Skip s.NoBlock (s.Then 10 (s.Fall ((Of2 binary.Add (Named name_k1) (Number (pos 1))) ∷ []) ((record { lines = ((line.Comb (((pos 1), 0) ∷ ((pos 1), 3) ∷ [])) ∷ []) }) ∷ [])) s.NoBlock s.End)))) (s.WithBlock (s.Then 11 (s.Break ((Named name_k1) ∷ []) ([])) s.NoBlock s.End) s.NoBlock)) s.End) s.NoBlock)) (s.Then 12 (s.Naming name_k3 (Global name_arr)) s.NoBlock (s.Then 13 (s.Set ([]) ([])) s.NoBlock (s.Then 14 (s.Bounds 2 None ([])) s.NoBlock (s.Then 15 (s.Set ([]) ([])) s.NoBlock (s.Then 16 (s.Return ((Of2 binary.Cons (Of unary.Vi (Number (pos 3))) Nil) ∷ (Of2 binary.Cons (Of unary.Vi (Number (pos 1))) (Of2 binary.Cons (Of unary.Vi (Number (pos 2))) (Of2 binary.Cons (Of unary.Vi (Number (pos 0))) (Of2 binary.Cons (Of unary.Vi (Number (pos 0))) Nil)))) ∷ []) ([]) ([])) s.NoBlock s.End))))))))) ≡ (RefusedAt 5 37 5)
unfolding computing
random_232 = refl

random_233 : body_verdict (record { predicates = ([]); specs = ((record { is_void = false; name = name_main; params = ([]); vars = []; pre = (record { opened = []; facts = ([]); locals = []; items = ((Data (Number (pos 64)) (Global name_g) (Of2 binary.Cons (Of unary.Vi (Number (pos 3))) Nil)) ∷ (Data (Number (pos 64)) (Global name_arr) (Of2 binary.Cons (Of unary.Vi (Number (pos 1))) (Of2 binary.Cons (Of unary.Vi (Number (pos 2))) (Of2 binary.Cons (Of unary.Vi (Number (pos 0))) (Of2 binary.Cons (Of unary.Vi (Number (pos 0))) Nil))))) ∷ (Data (Number (pos 64)) (Global name_x) (Of2 binary.Cons (Of unary.Vi (Number (pos 3))) Nil)) ∷ []) }); post = (record { opened = (sort.List ∷ sort.List ∷ []); facts = ([]); locals = []; items = ((Data (Number (pos 64)) (Global name_g) (Var 1 sort.List)) ∷ (Data (Number (pos 64)) (Global name_arr) (Var 2 sort.List)) ∷ (Data (Number (pos 64)) (Global name_x) (Var 1 sort.List)) ∷ []) }) }) ∷ []) }) (record { is_void = false; name = name_main; params = ([]); vars = []; pre = (record { opened = []; facts = ([]); locals = []; items = ((Data (Number (pos 64)) (Global name_g) (Of2 binary.Cons (Of unary.Vi (Number (pos 3))) Nil)) ∷ (Data (Number (pos 64)) (Global name_arr) (Of2 binary.Cons (Of unary.Vi (Number (pos 1))) (Of2 binary.Cons (Of unary.Vi (Number (pos 2))) (Of2 binary.Cons (Of unary.Vi (Number (pos 0))) (Of2 binary.Cons (Of unary.Vi (Number (pos 0))) Nil))))) ∷ (Data (Number (pos 64)) (Global name_x) (Of2 binary.Cons (Of unary.Vi (Number (pos 3))) Nil)) ∷ []) }); post = (record { opened = (sort.List ∷ sort.List ∷ []); facts = ([]); locals = []; items = ((Data (Number (pos 64)) (Global name_g) (Var 1 sort.List)) ∷ (Data (Number (pos 64)) (Global name_arr) (Var 2 sort.List)) ∷ (Data (Number (pos 64)) (Global name_x) (Var 1 sort.List)) ∷ []) }) }) (record { temps = (name_s ∷ name_t ∷ name_i ∷ name_x1 ∷ name_d0 ∷ name_p1 ∷ name_q1 ∷ []); body = (c.Then (c.Set 0 (c.Const 1)) (c.Then (c.Set 1 (c.Const 2)) (c.Then (c.Set 2 (c.Const 0)) (c.Then (c.Loop (c.Then (c.If (c.Nonzero kind.Signed (c.Binary two.Lt kind.Signed (c.Temp 2) (c.Const 4))) (c.Then (c.Set 4 (c.Const 1)) (c.Then (c.Set 2 (c.Binary two.Add kind.Signed (c.Temp 2) (c.Const 1))) (c.Then c.Skip c.End))) (c.Then c.Break c.End)) c.End)) (c.Then (c.Set 1 (c.Binary two.Add kind.Signed (c.Const 1) (c.Const 1))) (c.Then (c.Set 3 (c.Binary two.Shl kind.Unsigned (c.Const 1) (c.Const 4))) (c.Then (c.Return (Some (c.Binary two.Add kind.Signed (c.Const 2) (c.Const 2)))) c.End))))))) }) (s.Then 1 (s.Set ([]) ([])) s.NoBlock (s.Then 2 (s.Set ([]) ([])) s.NoBlock (s.Then 3 (s.Set ([]) ([])) s.NoBlock (s.Then 4 (s.While (record { opened = (sort.Int ∷ []); facts = ((Rel relation.Le (Number (pos 0)) (Var 0 sort.Int)) ∷ (Rel relation.Le (Var 0 sort.Int) (Number (pos 4))) ∷ []); locals = ((name_s, (Of unary.Vi (Number (pos 1)))) ∷ (name_t, (Of unary.Vi (Number (pos 2)))) ∷ (name_i, (Of unary.Vi (Var 0 sort.Int))) ∷ []); items = ((Data (Number (pos 64)) (Global name_g) (Of2 binary.Cons (Of unary.Vi (Number (pos 3))) Nil)) ∷ (Data (Number (pos 64)) (Global name_arr) (Of2 binary.Cons (Of unary.Vi (Number (pos 1))) (Of2 binary.Cons (Of unary.Vi (Number (pos 2))) (Of2 binary.Cons (Of unary.Vi (Number (pos 0))) (Of2 binary.Cons (Of unary.Vi (Number (pos 0))) Nil))))) ∷ (Data (Number (pos 64)) (Global name_x) (Of2 binary.Cons (Of unary.Vi (Number (pos 3))) Nil)) ∷ []) }) (record { opened = (sort.Int ∷ []); facts = ((Rel relation.Le (Number (pos 0)) (Var 0 sort.Int)) ∷ (Rel relation.Le (Var 0 sort.Int) (Number (pos 4))) ∷ (Rel relation.Le (Number (pos 4)) (Var 0 sort.Int)) ∷ []); locals = ((name_s, (Of unary.Vi (Number (pos 1)))) ∷ (name_t, (Of unary.Vi (Number (pos 2)))) ∷ (name_i, (Of unary.Vi (Var 0 sort.Int))) ∷ []); items = ((Data (Number (pos 64)) (Global name_g) (Of2 binary.Cons (Of unary.Vi (Number (pos 3))) Nil)) ∷ (Data (Number (pos 64)) (Global name_arr) (Of2 binary.Cons (Of unary.Vi (Number (pos 1))) (Of2 binary.Cons (Of unary.Vi (Number (pos 2))) (Of2 binary.Cons (Of unary.Vi (Number (pos 0))) (Of2 binary.Cons (Of unary.Vi (Number (pos 0))) Nil))))) ∷ (Data (Number (pos 64)) (Global name_x) (Of2 binary.Cons (Of unary.Vi (Number (pos 3))) Nil)) ∷ []) }) (name_k2 ∷ []) ([]) (name_k1 ∷ [])) (s.WithBlock (s.Then 5 (s.Meet ((Number (pos 1)) ∷ []) ([])) s.NoBlock s.End) (s.WithBlock (s.Then 6 (s.If ([]) ((record { lines = ((line.Comb (((pos 1), 0) ∷ ((pos 1), 2) ∷ [])) ∷ []) }) ∷ (record { lines = ((line.Comb (((pos 1), 1) ∷ ((pos 1), 2) ∷ [])) ∷ []) }) ∷ []) ([]) ([])) (s.WithBlock (s.Then 7 (s.Set ([]) ([])) s.NoBlock (s.Then 8 (s.Set ([]) ((record { lines = ((line.Comb (((pos 1), 0) ∷ ((pos 1), 3) ∷ [])) ∷ []) }) ∷ (record { lines = ((line.Comb (((pos 1), 1) ∷ ((pos 1), 3) ∷ [])) ∷ []) }) ∷ (record { lines = ((line.Comb (((pos 1), 0) ∷ ((pos 1), 3) ∷ [])) ∷ []) }) ∷ (record { lines = ((line.Comb (((pos 1), 1) ∷ ((pos 1), 3) ∷ [])) ∷ []) }) ∷ [])) s.NoBlock (s.Then 9 s.Skip s.NoBlock (s.Then 10 (s.Fall ((Of2 binary.Add (Named name_k1) (Number (pos 1))) ∷ []) ((record { lines = ((line.Comb (((pos 1), 0) ∷ ((pos 1), 3) ∷ [])) ∷ []) }) ∷ [])) s.NoBlock s.End)))) (s.WithBlock (s.Then 11 (s.Break ((Named name_k1) ∷ []) ([])) s.NoBlock s.End) s.NoBlock)) s.End) s.NoBlock)) (s.Then 12 (s.Naming name_k3 (Global name_arr)) s.NoBlock (s.Then 13 (s.Set ([]) ([])) s.NoBlock (s.Then 14 (s.Bounds 2 None ([])) s.NoBlock (s.Then 15 (s.Set ([]) ([])) s.NoBlock (s.Then 16 (s.Return ((Of2 binary.Cons (Of unary.Vi (Number (pos 3))) Nil) ∷ (Of2 binary.Cons (Of unary.Vi (Number (pos 1))) (Of2 binary.Cons (Of unary.Vi (Number (pos 2))) (Of2 binary.Cons (Of unary.Vi (Number (pos 0))) (Of2 binary.Cons (Of unary.Vi (Number (pos 0))) Nil)))) ∷ []) ([]) ([])) s.NoBlock s.End))))))))) ≡ (RefusedAt 5 37 4)
unfolding computing
random_233 = refl

random_234 : body_verdict (record { predicates = ((record { name = name_E; args = ([]); cases = ((record { opened = []; facts = ([]); locals = []; items = ([]) }) ∷ []) }) ∷ []); specs = ((record { is_void = true; name = name_f; params = ([]); vars = []; pre = (record { opened = []; facts = ([]); locals = []; items = ([]) }); post = (record { opened = []; facts = ([]); locals = []; items = ([]) }) }) ∷ (record { is_void = false; name = name_main; params = ([]); vars = []; pre = (record { opened = []; facts = ([]); locals = []; items = ([]) }); post = (record { opened = []; facts = ((Rel relation.Eq (Var 0 sort.Val) (Of unary.Vi (Number (pos 0)))) ∷ []); locals = []; items = ([]) }) }) ∷ []) }) (record { is_void = true; name = name_f; params = ([]); vars = []; pre = (record { opened = []; facts = ([]); locals = []; items = ([]) }); post = (record { opened = []; facts = ([]); locals = []; items = ([]) }) }) (record { temps = (name_s ∷ name_t ∷ name_i ∷ name_x1 ∷ name_d0 ∷ name_p1 ∷ name_q1 ∷ []); body = (c.Then (c.Set 0 (c.Const 3)) (c.Then (c.Set 1 (c.Const 2)) (c.Then (c.Set 0 (c.Binary two.Mul kind.Signed (c.Temp 1) (c.Const 1))) (c.Then (c.Return None) c.End)))) }) (s.Then 1 (s.Set ([]) ([])) s.NoBlock (s.Then 2 (s.Set ([]) ([])) s.NoBlock (s.Then 3 (s.Release 0 1 ([])) s.NoBlock (s.Then 4 (s.Return ([]) ([]) ([])) s.NoBlock s.End)))) ≡ (RefusedAt 3 18 1)
unfolding computing
random_234 = refl

random_235 : body_verdict (record { predicates = ((record { name = name_E; args = ([]); cases = ((record { opened = []; facts = ([]); locals = []; items = ([]) }) ∷ []) }) ∷ []); specs = ((record { is_void = true; name = name_f; params = ([]); vars = []; pre = (record { opened = []; facts = ([]); locals = []; items = ([]) }); post = (record { opened = []; facts = ([]); locals = []; items = ([]) }) }) ∷ (record { is_void = false; name = name_main; params = ([]); vars = []; pre = (record { opened = []; facts = ([]); locals = []; items = ([]) }); post = (record { opened = []; facts = ((Rel relation.Eq (Var 0 sort.Val) (Of unary.Vi (Number (pos 0)))) ∷ []); locals = []; items = ([]) }) }) ∷ []) }) (record { is_void = true; name = name_f; params = ([]); vars = []; pre = (record { opened = []; facts = ([]); locals = []; items = ([]) }); post = (record { opened = []; facts = ([]); locals = []; items = ([]) }) }) (record { temps = (name_s ∷ name_t ∷ name_i ∷ name_x1 ∷ name_d0 ∷ name_p1 ∷ name_q1 ∷ []); body = (c.Then (c.Set 0 (c.Const 3)) (c.Then (c.Set 1 (c.Const 2)) (c.Then (c.Set 0 (c.Binary two.Mul kind.Signed (c.Temp 1) (c.Const 1))) (c.Then (c.Return None) c.End)))) }) (s.Then 1 (s.Set ([]) ([])) s.NoBlock (s.Then 2 (s.Set ([]) ([])) s.NoBlock (s.Then 3 (s.Set ([]) ([])) s.NoBlock (s.Then 4 (s.Set ([]) ([])) s.NoBlock (s.Then 5 (s.Return ([]) ([]) ([])) s.NoBlock s.End))))) ≡ (RefusedAt 4 2 1)
unfolding computing
random_235 = refl

random_236 : body_verdict (record { predicates = ((record { name = name_E; args = ([]); cases = ((record { opened = []; facts = ([]); locals = []; items = ([]) }) ∷ []) }) ∷ []); specs = ((record { is_void = true; name = name_f; params = ([]); vars = []; pre = (record { opened = []; facts = ([]); locals = []; items = ([]) }); post = (record { opened = []; facts = ([]); locals = []; items = ([]) }) }) ∷ (record { is_void = false; name = name_main; params = ([]); vars = []; pre = (record { opened = []; facts = ([]); locals = []; items = ([]) }); post = (record { opened = []; facts = ((Rel relation.Eq (Var 0 sort.Val) (Of unary.Vi (Number (pos 0)))) ∷ []); locals = []; items = ([]) }) }) ∷ []) }) (record { is_void = true; name = name_f; params = ([]); vars = []; pre = (record { opened = []; facts = ([]); locals = []; items = ([]) }); post = (record { opened = []; facts = ([]); locals = []; items = ([]) }) }) (record { temps = (name_s ∷ name_t ∷ name_i ∷ name_x1 ∷ name_d0 ∷ name_p1 ∷ name_q1 ∷ []); body = (c.Then (c.Set 0 (c.Const 3)) (c.Then (c.Set 1 (c.Const 2)) (c.Then (c.Set 0 (c.Binary two.Mul kind.Signed (c.Temp 1) (c.Const 1))) (c.Then (c.Return None) c.End)))) }) (s.Then 1 (s.Set ([]) ([])) s.NoBlock (s.Then 2 (s.Set ([]) ([])) s.NoBlock (s.Then 3 (s.Return ([]) ([]) ([])) s.NoBlock s.End))) ≡ (RefusedAt 3 9 1)
unfolding computing
random_236 = refl

random_237 : body_verdict (record { predicates = ([]); specs = ((record { is_void = false; name = name_f; params = ([]); vars = []; pre = (record { opened = []; facts = ([]); locals = []; items = ([]) }); post = (record { opened = []; facts = ((Rel relation.Eq (Var 0 sort.Val) (Of unary.Vi (Number (pos 0)))) ∷ []); locals = []; items = ([]) }) }) ∷ (record { is_void = false; name = name_main; params = ([]); vars = []; pre = (record { opened = []; facts = ([]); locals = []; items = ([]) }); post = (record { opened = []; facts = ((Rel relation.Eq (Var 0 sort.Val) (Of unary.Vi (Number (pos 0)))) ∷ []); locals = []; items = ([]) }) }) ∷ []) }) (record { is_void = false; name = name_f; params = ([]); vars = []; pre = (record { opened = []; facts = ([]); locals = []; items = ([]) }); post = (record { opened = []; facts = ((Rel relation.Eq (Var 0 sort.Val) (Of unary.Vi (Number (pos 0)))) ∷ []); locals = []; items = ([]) }) }) (record { temps = (name_s ∷ name_t ∷ name_i ∷ name_x1 ∷ name_d0 ∷ name_p1 ∷ name_q1 ∷ []); body = (c.Then (c.Set 0 (c.Const 3)) (c.Then (c.Set 1 (c.Const 2)) (c.Then (c.Set 0 (c.Temp 1)) (c.Then (c.Set 1 (c.Const 0)) (c.Then (c.Set 4 (c.Binary two.Sub kind.Signed (c.Const 2) (c.Const 3))) (c.Then (c.Return (Some (c.Temp 1))) c.End)))))) }) (s.Then 1 (s.Set ([]) ([])) s.NoBlock (s.Then 2 (s.Set ([]) ([])) s.NoBlock (s.Then 3 (s.Set ([]) ([])) s.NoBlock (s.Then 4 (s.Set ([]) ([])) s.NoBlock (s.Then 5 (s.Set ([]) ([])) s.NoBlock s.End))))) ≡ (RefusedAt 6 0 10)
unfolding computing
random_237 = refl

random_238 : body_verdict (record { predicates = ([]); specs = ((record { is_void = false; name = name_f; params = ([]); vars = []; pre = (record { opened = []; facts = ([]); locals = []; items = ([]) }); post = (record { opened = []; facts = ((Rel relation.Eq (Var 0 sort.Val) (Of unary.Vi (Number (pos 0)))) ∷ []); locals = []; items = ([]) }) }) ∷ (record { is_void = false; name = name_main; params = ([]); vars = []; pre = (record { opened = []; facts = ([]); locals = []; items = ([]) }); post = (record { opened = []; facts = ((Rel relation.Eq (Var 0 sort.Val) (Of unary.Vi (Number (pos 0)))) ∷ []); locals = []; items = ([]) }) }) ∷ []) }) (record { is_void = false; name = name_f; params = ([]); vars = []; pre = (record { opened = []; facts = ([]); locals = []; items = ([]) }); post = (record { opened = []; facts = ((Rel relation.Eq (Var 0 sort.Val) (Of unary.Vi (Number (pos 0)))) ∷ []); locals = []; items = ([]) }) }) (record { temps = (name_s ∷ name_t ∷ name_i ∷ name_x1 ∷ name_d0 ∷ name_p1 ∷ name_q1 ∷ []); body = (c.Then (c.Set 0 (c.Const 3)) (c.Then (c.Set 1 (c.Const 2)) (c.Then (c.Set 0 (c.Temp 1)) (c.Then (c.Set 1 (c.Const 0)) (c.Then (c.Set 4 (c.Binary two.Sub kind.Signed (c.Const 2) (c.Const 3))) (c.Then (c.Return (Some (c.Temp 1))) c.End)))))) }) (s.Then 1 (s.Set ([]) ([])) s.NoBlock (s.Then 2 (s.Set ([]) ([])) s.NoBlock (s.Then 3 (s.Set ([]) ([])) s.NoBlock (s.Then 4 (s.Set ([]) ([])) s.NoBlock (s.Then 5 (s.Set ([]) ([])) s.NoBlock (s.Then 6 (s.Set ([]) ([])) s.NoBlock (s.Then 7 (s.Return ([]) ([]) ([])) s.NoBlock s.End))))))) ≡ (RefusedAt 6 2 1)
unfolding computing
random_238 = refl

random_239 : body_verdict (record { predicates = ([]); specs = ((record { is_void = false; name = name_f; params = (name_r0 ∷ name_s1 ∷ []); vars = ((name_e0, sort.Val) ∷ (name_l0, sort.List) ∷ (name_w1, sort.Val) ∷ (name_h1, sort.Int) ∷ (name_q1, sort.Val) ∷ []); pre = (record { opened = []; facts = ((Rel relation.Eq (Of unary.Len (Var 1 sort.List)) (Number (pos 4))) ∷ (Rel relation.Le (Number (pos 0)) (Var 3 sort.Int)) ∷ (Rel relation.Le (Var 3 sort.Int) (Number (pos 20))) ∷ []); locals = ((name_r0, (Var 0 sort.Val)) ∷ (name_s1, (Var 2 sort.Val)) ∷ []); items = ((Data (Number (pos 64)) (Var 0 sort.Val) (Var 1 sort.List)) ∷ (Data (Number (pos 64)) (Var 2 sort.Val) (Of2 binary.Cons (Of unary.Vi (Var 3 sort.Int)) (Of2 binary.Cons (Var 4 sort.Val) (Of2 binary.Cons (Of unary.Vi (Number (pos 3))) Nil)))) ∷ []) }); post = (record { opened = (sort.List ∷ []); facts = ([]); locals = []; items = ((Data (Number (pos 64)) (Var 0 sort.Val) (Var 1 sort.List)) ∷ (Data (Number (pos 64)) (Var 2 sort.Val) (Var 6 sort.List)) ∷ []) }) }) ∷ (record { is_void = false; name = name_main; params = ([]); vars = []; pre = (record { opened = []; facts = ([]); locals = []; items = ([]) }); post = (record { opened = []; facts = ((Rel relation.Eq (Var 0 sort.Val) (Of unary.Vi (Number (pos 0)))) ∷ []); locals = []; items = ([]) }) }) ∷ []) }) (record { is_void = false; name = name_f; params = (name_r0 ∷ name_s1 ∷ []); vars = ((name_e0, sort.Val) ∷ (name_l0, sort.List) ∷ (name_w1, sort.Val) ∷ (name_h1, sort.Int) ∷ (name_q1, sort.Val) ∷ []); pre = (record { opened = []; facts = ((Rel relation.Eq (Of unary.Len (Var 1 sort.List)) (Number (pos 4))) ∷ (Rel relation.Le (Number (pos 0)) (Var 3 sort.Int)) ∷ (Rel relation.Le (Var 3 sort.Int) (Number (pos 20))) ∷ []); locals = ((name_r0, (Var 0 sort.Val)) ∷ (name_s1, (Var 2 sort.Val)) ∷ []); items = ((Data (Number (pos 64)) (Var 0 sort.Val) (Var 1 sort.List)) ∷ (Data (Number (pos 64)) (Var 2 sort.Val) (Of2 binary.Cons (Of unary.Vi (Var 3 sort.Int)) (Of2 binary.Cons (Var 4 sort.Val) (Of2 binary.Cons (Of unary.Vi (Number (pos 3))) Nil)))) ∷ []) }); post = (record { opened = (sort.List ∷ []); facts = ([]); locals = []; items = ((Data (Number (pos 64)) (Var 0 sort.Val) (Var 1 sort.List)) ∷ (Data (Number (pos 64)) (Var 2 sort.Val) (Var 6 sort.List)) ∷ []) }) }) (record { temps = (name_r0 ∷ name_s1 ∷ name_s ∷ name_t ∷ name_i ∷ name_x1 ∷ name_d0 ∷ name_p1 ∷ name_q1 ∷ []); body = (c.Then (c.Set 2 (c.Const 1)) (c.Then (c.Set 3 (c.Const 1)) (c.Then (c.Malloc 7 3) (c.Then (c.If (c.Pointers (c.Temp 7) (c.Const 0) true) (c.Then (c.Return (Some (c.Const 0))) c.End) c.End) (c.Then (c.Store (root.Temp 7) (c.Offset 0 c.Here) (c.Const 2)) (c.Then (c.Load 3 (root.Temp 7) (c.Offset 0 c.Here)) (c.Then (c.Free (c.Temp 7)) (c.Then (c.Set 5 (c.Unary one.Invert kind.Unsigned (c.Const 0))) (c.Then (c.Set 2 (c.Const 1)) (c.Then (c.Return (Some (c.Temp 3))) c.End)))))))))) }) (s.Then 1 (s.Set ([]) ([])) s.NoBlock (s.Then 2 (s.Set ([]) ([])) s.NoBlock (s.Then 3 (s.Malloc name_k1 ([]) ([])) (s.WithBlock (s.Then 4 (s.If ([]) ([]) ([]) ([])) (s.WithBlock (s.Then 5 (s.Return ((Of2 binary.Cons (Of unary.Vi (Named name_h1)) (Of2 binary.Cons (Named name_q1) (Of2 binary.Cons (Of unary.Vi (Number (pos 3))) Nil))) ∷ []) ([]) ([])) s.NoBlock s.End) (s.WithBlock (s.Then 6 (s.Absurd ([])) s.NoBlock s.End) s.NoBlock)) s.End) (s.WithBlock (s.Then 7 (s.If (2 ∷ []) ([]) ([]) ([])) (s.WithBlock (s.Then 8 (s.Return ((Of2 binary.Cons (Of unary.Vi (Named name_h1)) (Of2 binary.Cons (Named name_q1) (Of2 binary.Cons (Of unary.Vi (Number (pos 3))) Nil))) ∷ []) ([]) ([])) s.NoBlock (s.Then 9 (s.Absurd ([])) s.NoBlock s.End)) (s.WithBlock (s.Then 10 (s.Store 2 ([]) ([])) s.NoBlock (s.Then 11 (s.Load 2 ([]) ([])) s.NoBlock (s.Then 12 (s.Free 2 3 ([])) s.NoBlock (s.Then 13 (s.Set ([]) ([])) s.NoBlock (s.Then 14 (s.Set ([]) ([])) s.NoBlock (s.Then 15 (s.Subst name_k1) s.NoBlock s.End)))))) s.NoBlock)) s.End) s.NoBlock)) s.End))) ≡ (RefusedAt 8 9 5)
unfolding computing
random_239 = refl

random_240 : body_verdict (record { predicates = ([]); specs = ((record { is_void = false; name = name_f; params = (name_r0 ∷ name_s1 ∷ []); vars = ((name_e0, sort.Val) ∷ (name_l0, sort.List) ∷ (name_w1, sort.Val) ∷ (name_h1, sort.Int) ∷ (name_q1, sort.Val) ∷ []); pre = (record { opened = []; facts = ((Rel relation.Eq (Of unary.Len (Var 1 sort.List)) (Number (pos 4))) ∷ (Rel relation.Le (Number (pos 0)) (Var 3 sort.Int)) ∷ (Rel relation.Le (Var 3 sort.Int) (Number (pos 20))) ∷ []); locals = ((name_r0, (Var 0 sort.Val)) ∷ (name_s1, (Var 2 sort.Val)) ∷ []); items = ((Data (Number (pos 64)) (Var 0 sort.Val) (Var 1 sort.List)) ∷ (Data (Number (pos 64)) (Var 2 sort.Val) (Of2 binary.Cons (Of unary.Vi (Var 3 sort.Int)) (Of2 binary.Cons (Var 4 sort.Val) (Of2 binary.Cons (Of unary.Vi (Number (pos 3))) Nil)))) ∷ []) }); post = (record { opened = (sort.List ∷ []); facts = ([]); locals = []; items = ((Data (Number (pos 64)) (Var 0 sort.Val) (Var 1 sort.List)) ∷ (Data (Number (pos 64)) (Var 2 sort.Val) (Var 6 sort.List)) ∷ []) }) }) ∷ (record { is_void = false; name = name_main; params = ([]); vars = []; pre = (record { opened = []; facts = ([]); locals = []; items = ([]) }); post = (record { opened = []; facts = ((Rel relation.Eq (Var 0 sort.Val) (Of unary.Vi (Number (pos 0)))) ∷ []); locals = []; items = ([]) }) }) ∷ []) }) (record { is_void = false; name = name_f; params = (name_r0 ∷ name_s1 ∷ []); vars = ((name_e0, sort.Val) ∷ (name_l0, sort.List) ∷ (name_w1, sort.Val) ∷ (name_h1, sort.Int) ∷ (name_q1, sort.Val) ∷ []); pre = (record { opened = []; facts = ((Rel relation.Eq (Of unary.Len (Var 1 sort.List)) (Number (pos 4))) ∷ (Rel relation.Le (Number (pos 0)) (Var 3 sort.Int)) ∷ (Rel relation.Le (Var 3 sort.Int) (Number (pos 20))) ∷ []); locals = ((name_r0, (Var 0 sort.Val)) ∷ (name_s1, (Var 2 sort.Val)) ∷ []); items = ((Data (Number (pos 64)) (Var 0 sort.Val) (Var 1 sort.List)) ∷ (Data (Number (pos 64)) (Var 2 sort.Val) (Of2 binary.Cons (Of unary.Vi (Var 3 sort.Int)) (Of2 binary.Cons (Var 4 sort.Val) (Of2 binary.Cons (Of unary.Vi (Number (pos 3))) Nil)))) ∷ []) }); post = (record { opened = (sort.List ∷ []); facts = ([]); locals = []; items = ((Data (Number (pos 64)) (Var 0 sort.Val) (Var 1 sort.List)) ∷ (Data (Number (pos 64)) (Var 2 sort.Val) (Var 6 sort.List)) ∷ []) }) }) (record { temps = (name_r0 ∷ name_s1 ∷ name_s ∷ name_t ∷ name_i ∷ name_x1 ∷ name_d0 ∷ name_p1 ∷ name_q1 ∷ []); body = (c.Then (c.Set 2 (c.Const 1)) (c.Then (c.Set 3 (c.Const 1)) (c.Then (c.Malloc 7 3) (c.Then (c.If (c.Pointers (c.Temp 7) (c.Const 0) true) (c.Then (c.Return (Some (c.Const 0))) c.End) c.End) (c.Then (c.Store (root.Temp 7) (c.Offset 0 c.Here) (c.Const 2)) (c.Then (c.Load 3 (root.Temp 7) (c.Offset 0 c.Here)) (c.Then (c.Free (c.Temp 7)) (c.Then (c.Set 5 (c.Unary one.Invert kind.Unsigned (c.Const 0))) (c.Then (c.Set 2 (c.Const 1)) (c.Then (c.Return (Some (c.Temp 3))) c.End)))))))))) }) (s.Then 1 (s.Set ([]) ([])) s.NoBlock (s.Then 2 (s.Set ([]) ([])) s.NoBlock (s.Then 3 (s.Malloc name_k1 ([]) ([])) (s.WithBlock (s.Then 4 (s.If ([]) ([]) ([]) ([])) (s.WithBlock (s.Then 5 (s.Return ((Of2 binary.Cons (Of unary.Vi (Named name_h1)) (Of2 binary.Cons (Named name_q1) (Of2 binary.Cons (Of unary.Vi (Number (pos 3))) Nil))) ∷ []) ([]) ([])) s.NoBlock s.End) (s.WithBlock (s.Then 6 (s.Absurd ([])) s.NoBlock s.End) s.NoBlock)) s.End) (s.WithBlock s.End s.NoBlock)) s.End))) ≡ (RefusedAt 7 0 10)
unfolding computing
random_240 = refl

random_241 : body_verdict (record { predicates = ([]); specs = ((record { is_void = false; name = name_f; params = (name_r0 ∷ name_s1 ∷ []); vars = ((name_e0, sort.Val) ∷ (name_l0, sort.List) ∷ (name_w1, sort.Val) ∷ (name_h1, sort.Int) ∷ (name_q1, sort.Val) ∷ []); pre = (record { opened = []; facts = ((Rel relation.Eq (Of unary.Len (Var 1 sort.List)) (Number (pos 4))) ∷ (Rel relation.Le (Number (pos 0)) (Var 3 sort.Int)) ∷ (Rel relation.Le (Var 3 sort.Int) (Number (pos 20))) ∷ []); locals = ((name_r0, (Var 0 sort.Val)) ∷ (name_s1, (Var 2 sort.Val)) ∷ []); items = ((Data (Number (pos 64)) (Var 0 sort.Val) (Var 1 sort.List)) ∷ (Data (Number (pos 64)) (Var 2 sort.Val) (Of2 binary.Cons (Of unary.Vi (Var 3 sort.Int)) (Of2 binary.Cons (Var 4 sort.Val) (Of2 binary.Cons (Of unary.Vi (Number (pos 3))) Nil)))) ∷ []) }); post = (record { opened = (sort.List ∷ []); facts = ([]); locals = []; items = ((Data (Number (pos 64)) (Var 0 sort.Val) (Var 1 sort.List)) ∷ (Data (Number (pos 64)) (Var 2 sort.Val) (Var 6 sort.List)) ∷ []) }) }) ∷ (record { is_void = false; name = name_main; params = ([]); vars = []; pre = (record { opened = []; facts = ([]); locals = []; items = ([]) }); post = (record { opened = []; facts = ((Rel relation.Eq (Var 0 sort.Val) (Of unary.Vi (Number (pos 0)))) ∷ []); locals = []; items = ([]) }) }) ∷ []) }) (record { is_void = false; name = name_f; params = (name_r0 ∷ name_s1 ∷ []); vars = ((name_e0, sort.Val) ∷ (name_l0, sort.List) ∷ (name_w1, sort.Val) ∷ (name_h1, sort.Int) ∷ (name_q1, sort.Val) ∷ []); pre = (record { opened = []; facts = ((Rel relation.Eq (Of unary.Len (Var 1 sort.List)) (Number (pos 4))) ∷ (Rel relation.Le (Number (pos 0)) (Var 3 sort.Int)) ∷ (Rel relation.Le (Var 3 sort.Int) (Number (pos 20))) ∷ []); locals = ((name_r0, (Var 0 sort.Val)) ∷ (name_s1, (Var 2 sort.Val)) ∷ []); items = ((Data (Number (pos 64)) (Var 0 sort.Val) (Var 1 sort.List)) ∷ (Data (Number (pos 64)) (Var 2 sort.Val) (Of2 binary.Cons (Of unary.Vi (Var 3 sort.Int)) (Of2 binary.Cons (Var 4 sort.Val) (Of2 binary.Cons (Of unary.Vi (Number (pos 3))) Nil)))) ∷ []) }); post = (record { opened = (sort.List ∷ []); facts = ([]); locals = []; items = ((Data (Number (pos 64)) (Var 0 sort.Val) (Var 1 sort.List)) ∷ (Data (Number (pos 64)) (Var 2 sort.Val) (Var 6 sort.List)) ∷ []) }) }) (record { temps = (name_r0 ∷ name_s1 ∷ name_s ∷ name_t ∷ name_i ∷ name_x1 ∷ name_d0 ∷ name_p1 ∷ name_q1 ∷ []); body = (c.Then (c.Set 2 (c.Const 1)) (c.Then (c.Set 3 (c.Const 1)) (c.Then (c.Malloc 7 3) (c.Then (c.If (c.Pointers (c.Temp 7) (c.Const 0) true) (c.Then (c.Return (Some (c.Const 0))) c.End) c.End) (c.Then (c.Store (root.Temp 7) (c.Offset 0 c.Here) (c.Const 2)) (c.Then (c.Load 3 (root.Temp 7) (c.Offset 0 c.Here)) (c.Then (c.Free (c.Temp 7)) (c.Then (c.Set 5 (c.Unary one.Invert kind.Unsigned (c.Const 0))) (c.Then (c.Set 2 (c.Const 1)) (c.Then (c.Return (Some (c.Temp 3))) c.End)))))))))) }) (s.Then 1 (s.Set ([]) ([])) s.NoBlock (s.Then 2 (s.Set ([]) ([])) s.NoBlock (s.Then 3 (s.Malloc name_k1 ([]) ([])) (s.WithBlock (s.Then 4 (s.If ([]) ([]) ([]) ([])) (s.WithBlock (s.Then 5 (s.Return ((Of2 binary.Cons (Of unary.Vi (Named name_h1)) (Of2 binary.Cons (Named name_q1) (Of2 binary.Cons (Of unary.Vi (Number (pos 3))) Nil))) ∷ []) ([]) ([])) s.NoBlock s.End) (s.WithBlock (s.Then 6 (s.Absurd ([])) s.NoBlock s.End) s.NoBlock)) s.End) (s.WithBlock (s.Then 7 (s.If (31 ∷ []) ([]) ([]) ([])) (s.WithBlock (s.Then 8 (s.Subst name_k1) s.NoBlock (s.Then 9 (s.Absurd ([])) s.NoBlock s.End)) (s.WithBlock (s.Then 10 (s.Store 2 ([]) ([])) s.NoBlock (s.Then 11 (s.Load 2 ([]) ([])) s.NoBlock (s.Then 12 (s.Free 2 3 ([])) s.NoBlock (s.Then 13 (s.Set ([]) ([])) s.NoBlock (s.Then 14 (s.Set ([]) ([])) s.NoBlock (s.Then 15 (s.Return ((Of2 binary.Cons (Of unary.Vi (Named name_h1)) (Of2 binary.Cons (Named name_q1) (Of2 binary.Cons (Of unary.Vi (Number (pos 3))) Nil))) ∷ []) ([]) ([])) s.NoBlock s.End)))))) s.NoBlock)) s.End) s.NoBlock)) s.End))) ≡ (RefusedAt 7 5 2)
unfolding computing
random_241 = refl

random_242 : body_verdict (record { predicates = ([]); specs = ((record { is_void = false; name = name_f; params = (name_r0 ∷ name_s1 ∷ []); vars = ((name_e0, sort.Val) ∷ (name_l0, sort.List) ∷ (name_w1, sort.Val) ∷ (name_h1, sort.Int) ∷ (name_q1, sort.Val) ∷ []); pre = (record { opened = []; facts = ((Rel relation.Eq (Of unary.Len (Var 1 sort.List)) (Number (pos 4))) ∷ (Rel relation.Le (Number (pos 0)) (Var 3 sort.Int)) ∷ (Rel relation.Le (Var 3 sort.Int) (Number (pos 20))) ∷ []); locals = ((name_r0, (Var 0 sort.Val)) ∷ (name_s1, (Var 2 sort.Val)) ∷ []); items = ((Data (Number (pos 64)) (Var 0 sort.Val) (Var 1 sort.List)) ∷ (Data (Number (pos 64)) (Var 2 sort.Val) (Of2 binary.Cons (Of unary.Vi (Var 3 sort.Int)) (Of2 binary.Cons (Var 4 sort.Val) (Of2 binary.Cons (Of unary.Vi (Number (pos 3))) Nil)))) ∷ []) }); post = (record { opened = (sort.List ∷ []); facts = ([]); locals = []; items = ((Data (Number (pos 64)) (Var 0 sort.Val) (Var 1 sort.List)) ∷ (Data (Number (pos 64)) (Var 2 sort.Val) (Var 6 sort.List)) ∷ []) }) }) ∷ (record { is_void = false; name = name_main; params = ([]); vars = []; pre = (record { opened = []; facts = ([]); locals = []; items = ([]) }); post = (record { opened = []; facts = ((Rel relation.Eq (Var 0 sort.Val) (Of unary.Vi (Number (pos 0)))) ∷ []); locals = []; items = ([]) }) }) ∷ []) }) (record { is_void = false; name = name_f; params = (name_r0 ∷ name_s1 ∷ []); vars = ((name_e0, sort.Val) ∷ (name_l0, sort.List) ∷ (name_w1, sort.Val) ∷ (name_h1, sort.Int) ∷ (name_q1, sort.Val) ∷ []); pre = (record { opened = []; facts = ((Rel relation.Eq (Of unary.Len (Var 1 sort.List)) (Number (pos 4))) ∷ (Rel relation.Le (Number (pos 0)) (Var 3 sort.Int)) ∷ (Rel relation.Le (Var 3 sort.Int) (Number (pos 20))) ∷ []); locals = ((name_r0, (Var 0 sort.Val)) ∷ (name_s1, (Var 2 sort.Val)) ∷ []); items = ((Data (Number (pos 64)) (Var 0 sort.Val) (Var 1 sort.List)) ∷ (Data (Number (pos 64)) (Var 2 sort.Val) (Of2 binary.Cons (Of unary.Vi (Var 3 sort.Int)) (Of2 binary.Cons (Var 4 sort.Val) (Of2 binary.Cons (Of unary.Vi (Number (pos 3))) Nil)))) ∷ []) }); post = (record { opened = (sort.List ∷ []); facts = ([]); locals = []; items = ((Data (Number (pos 64)) (Var 0 sort.Val) (Var 1 sort.List)) ∷ (Data (Number (pos 64)) (Var 2 sort.Val) (Var 6 sort.List)) ∷ []) }) }) (record { temps = (name_r0 ∷ name_s1 ∷ name_s ∷ name_t ∷ name_i ∷ name_x1 ∷ name_d0 ∷ name_p1 ∷ name_q1 ∷ []); body = (c.Then (c.Set 2 (c.Const 1)) (c.Then (c.Set 3 (c.Const 1)) (c.Then (c.Malloc 7 3) (c.Then (c.If (c.Pointers (c.Temp 7) (c.Const 0) true) (c.Then (c.Return (Some (c.Const 0))) c.End) c.End) (c.Then (c.Store (root.Temp 7) (c.Offset 0 c.Here) (c.Const 2)) (c.Then (c.Load 3 (root.Temp 7) (c.Offset 0 c.Here)) (c.Then (c.Free (c.Temp 7)) (c.Then (c.Set 5 (c.Unary one.Invert kind.Unsigned (c.Const 0))) (c.Then (c.Set 2 (c.Const 1)) (c.Then (c.Return (Some (c.Temp 3))) c.End)))))))))) }) (s.Then 1 (s.Set ([]) ([])) s.NoBlock (s.Then 2 (s.Set ([]) ([])) s.NoBlock (s.Then 3 (s.Set ([]) ([])) s.NoBlock (s.Then 4 (s.Malloc name_k1 ([]) ([])) (s.WithBlock (s.Then 5 (s.If ([]) ([]) ([]) ([])) (s.WithBlock (s.Then 6 (s.Return ((Of2 binary.Cons (Of unary.Vi (Named name_h1)) (Of2 binary.Cons (Named name_q1) (Of2 binary.Cons (Of unary.Vi (Number (pos 3))) Nil))) ∷ []) ([]) ([])) s.NoBlock s.End) (s.WithBlock (s.Then 7 (s.Absurd ([])) s.NoBlock s.End) s.NoBlock)) s.End) (s.WithBlock (s.Then 8 (s.If (2 ∷ []) ([]) ([]) ([])) (s.WithBlock (s.Then 9 (s.Subst name_k1) s.NoBlock (s.Then 10 (s.Absurd ([])) s.NoBlock s.End)) (s.WithBlock (s.Then 11 (s.Store 2 ([]) ([])) s.NoBlock (s.Then 12 (s.Load 2 ([]) ([])) s.NoBlock (s.Then 13 (s.Free 2 3 ([])) s.NoBlock (s.Then 14 (s.Set ([]) ([])) s.NoBlock (s.Then 15 (s.Set ([]) ([])) s.NoBlock (s.Then 16 (s.Return ((Of2 binary.Cons (Of unary.Vi (Named name_h1)) (Of2 binary.Cons (Named name_q1) (Of2 binary.Cons (Of unary.Vi (Number (pos 3))) Nil))) ∷ []) ([]) ([])) s.NoBlock s.End)))))) s.NoBlock)) s.End) s.NoBlock)) s.End)))) ≡ (RefusedAt 3 2 1)
unfolding computing
random_242 = refl

random_243 : body_verdict (record { predicates = ([]); specs = ((record { is_void = false; name = name_f; params = (name_r0 ∷ name_s1 ∷ []); vars = ((name_e0, sort.Val) ∷ (name_l0, sort.List) ∷ (name_w1, sort.Val) ∷ (name_h1, sort.Int) ∷ (name_q1, sort.Val) ∷ []); pre = (record { opened = []; facts = ((Rel relation.Eq (Of unary.Len (Var 1 sort.List)) (Number (pos 4))) ∷ (Rel relation.Le (Number (pos 0)) (Var 3 sort.Int)) ∷ (Rel relation.Le (Var 3 sort.Int) (Number (pos 20))) ∷ []); locals = ((name_r0, (Var 0 sort.Val)) ∷ (name_s1, (Var 2 sort.Val)) ∷ []); items = ((Data (Number (pos 64)) (Var 0 sort.Val) (Var 1 sort.List)) ∷ (Data (Number (pos 64)) (Var 2 sort.Val) (Of2 binary.Cons (Of unary.Vi (Var 3 sort.Int)) (Of2 binary.Cons (Var 4 sort.Val) (Of2 binary.Cons (Of unary.Vi (Number (pos 3))) Nil)))) ∷ []) }); post = (record { opened = (sort.List ∷ []); facts = ([]); locals = []; items = ((Data (Number (pos 64)) (Var 0 sort.Val) (Var 1 sort.List)) ∷ (Data (Number (pos 64)) (Var 2 sort.Val) (Var 6 sort.List)) ∷ []) }) }) ∷ (record { is_void = false; name = name_main; params = ([]); vars = []; pre = (record { opened = []; facts = ([]); locals = []; items = ([]) }); post = (record { opened = []; facts = ((Rel relation.Eq (Var 0 sort.Val) (Of unary.Vi (Number (pos 0)))) ∷ []); locals = []; items = ([]) }) }) ∷ []) }) (record { is_void = false; name = name_f; params = (name_r0 ∷ name_s1 ∷ []); vars = ((name_e0, sort.Val) ∷ (name_l0, sort.List) ∷ (name_w1, sort.Val) ∷ (name_h1, sort.Int) ∷ (name_q1, sort.Val) ∷ []); pre = (record { opened = []; facts = ((Rel relation.Eq (Of unary.Len (Var 1 sort.List)) (Number (pos 4))) ∷ (Rel relation.Le (Number (pos 0)) (Var 3 sort.Int)) ∷ (Rel relation.Le (Var 3 sort.Int) (Number (pos 20))) ∷ []); locals = ((name_r0, (Var 0 sort.Val)) ∷ (name_s1, (Var 2 sort.Val)) ∷ []); items = ((Data (Number (pos 64)) (Var 0 sort.Val) (Var 1 sort.List)) ∷ (Data (Number (pos 64)) (Var 2 sort.Val) (Of2 binary.Cons (Of unary.Vi (Var 3 sort.Int)) (Of2 binary.Cons (Var 4 sort.Val) (Of2 binary.Cons (Of unary.Vi (Number (pos 3))) Nil)))) ∷ []) }); post = (record { opened = (sort.List ∷ []); facts = ([]); locals = []; items = ((Data (Number (pos 64)) (Var 0 sort.Val) (Var 1 sort.List)) ∷ (Data (Number (pos 64)) (Var 2 sort.Val) (Var 6 sort.List)) ∷ []) }) }) (record { temps = (name_r0 ∷ name_s1 ∷ name_s ∷ name_t ∷ name_i ∷ name_x1 ∷ name_d0 ∷ name_p1 ∷ name_q1 ∷ []); body = (c.Then (c.Set 2 (c.Const 1)) (c.Then (c.Set 3 (c.Const 1)) (c.Then (c.Malloc 7 3) (c.Then (c.If (c.Pointers (c.Temp 7) (c.Const 0) true) (c.Then (c.Return (Some (c.Const 0))) c.End) c.End) (c.Then (c.Store (root.Temp 7) (c.Offset 0 c.Here) (c.Const 2)) (c.Then (c.Load 3 (root.Temp 7) (c.Offset 0 c.Here)) (c.Then (c.Free (c.Temp 7)) (c.Then (c.Set 5 (c.Unary one.Invert kind.Unsigned (c.Const 0))) (c.Then (c.Set 2 (c.Const 1)) (c.Then (c.Return (Some (c.Temp 3))) c.End)))))))))) }) (s.Then 1 (s.Set ([]) ([])) s.NoBlock (s.Then 2 (s.Set ([]) ([])) s.NoBlock (s.Then 3 (s.Malloc name_k1 ([]) ([])) (s.WithBlock (s.Then 4 (s.If ([]) ([]) ([]) ([])) (s.WithBlock (s.Then 5 (s.Return ((Of2 binary.Cons (Of unary.Vi (Named name_h1)) (Of2 binary.Cons (Named name_q1) (Of2 binary.Cons (Of unary.Vi (Number (pos 3))) Nil))) ∷ []) ([]) ([])) s.NoBlock s.End) (s.WithBlock (s.Then 6 (s.Absurd ([])) s.NoBlock s.End) s.NoBlock)) s.End) (s.WithBlock (s.Then 7 (s.If (2 ∷ []) ([]) ([]) ([])) (s.WithBlock (s.Then 8 (s.Subst name_k1) s.NoBlock (s.Then 9 (s.Absurd ([])) s.NoBlock s.End)) (s.WithBlock (s.Then 10 (s.Store 7 ([]) ([])) s.NoBlock (s.Then 11 (s.Load 2 ([]) ([])) s.NoBlock (s.Then 12 (s.Free 2 3 ([])) s.NoBlock (s.Then 13 (s.Set ([]) ([])) s.NoBlock (s.Then 14 (s.Set ([]) ([])) s.NoBlock (s.Then 15 (s.Return ((Of2 binary.Cons (Of unary.Vi (Named name_h1)) (Of2 binary.Cons (Named name_q1) (Of2 binary.Cons (Of unary.Vi (Number (pos 3))) Nil))) ∷ []) ([]) ([])) s.NoBlock s.End)))))) s.NoBlock)) s.End) s.NoBlock)) s.End))) ≡ (RefusedAt 10 4 1)
unfolding computing
random_243 = refl

random_244 : body_verdict (record { predicates = ([]); specs = ((record { is_void = false; name = name_f; params = (name_r0 ∷ name_s1 ∷ []); vars = ((name_e0, sort.Val) ∷ (name_l0, sort.List) ∷ (name_w1, sort.Val) ∷ (name_h1, sort.Int) ∷ (name_q1, sort.Val) ∷ []); pre = (record { opened = []; facts = ((Rel relation.Eq (Of unary.Len (Var 1 sort.List)) (Number (pos 4))) ∷ (Rel relation.Le (Number (pos 0)) (Var 3 sort.Int)) ∷ (Rel relation.Le (Var 3 sort.Int) (Number (pos 20))) ∷ []); locals = ((name_r0, (Var 0 sort.Val)) ∷ (name_s1, (Var 2 sort.Val)) ∷ []); items = ((Data (Number (pos 64)) (Var 0 sort.Val) (Var 1 sort.List)) ∷ (Data (Number (pos 64)) (Var 2 sort.Val) (Of2 binary.Cons (Of unary.Vi (Var 3 sort.Int)) (Of2 binary.Cons (Var 4 sort.Val) (Of2 binary.Cons (Of unary.Vi (Number (pos 3))) Nil)))) ∷ []) }); post = (record { opened = (sort.List ∷ []); facts = ([]); locals = []; items = ((Data (Number (pos 64)) (Var 0 sort.Val) (Var 1 sort.List)) ∷ (Data (Number (pos 64)) (Var 2 sort.Val) (Var 6 sort.List)) ∷ []) }) }) ∷ (record { is_void = false; name = name_main; params = ([]); vars = []; pre = (record { opened = []; facts = ([]); locals = []; items = ([]) }); post = (record { opened = []; facts = ((Rel relation.Eq (Var 0 sort.Val) (Of unary.Vi (Number (pos 0)))) ∷ []); locals = []; items = ([]) }) }) ∷ []) }) (record { is_void = false; name = name_f; params = (name_r0 ∷ name_s1 ∷ []); vars = ((name_e0, sort.Val) ∷ (name_l0, sort.List) ∷ (name_w1, sort.Val) ∷ (name_h1, sort.Int) ∷ (name_q1, sort.Val) ∷ []); pre = (record { opened = []; facts = ((Rel relation.Eq (Of unary.Len (Var 1 sort.List)) (Number (pos 4))) ∷ (Rel relation.Le (Number (pos 0)) (Var 3 sort.Int)) ∷ (Rel relation.Le (Var 3 sort.Int) (Number (pos 20))) ∷ []); locals = ((name_r0, (Var 0 sort.Val)) ∷ (name_s1, (Var 2 sort.Val)) ∷ []); items = ((Data (Number (pos 64)) (Var 0 sort.Val) (Var 1 sort.List)) ∷ (Data (Number (pos 64)) (Var 2 sort.Val) (Of2 binary.Cons (Of unary.Vi (Var 3 sort.Int)) (Of2 binary.Cons (Var 4 sort.Val) (Of2 binary.Cons (Of unary.Vi (Number (pos 3))) Nil)))) ∷ []) }); post = (record { opened = (sort.List ∷ []); facts = ([]); locals = []; items = ((Data (Number (pos 64)) (Var 0 sort.Val) (Var 1 sort.List)) ∷ (Data (Number (pos 64)) (Var 2 sort.Val) (Var 6 sort.List)) ∷ []) }) }) (record { temps = (name_r0 ∷ name_s1 ∷ name_s ∷ name_t ∷ name_i ∷ name_x1 ∷ name_d0 ∷ name_p1 ∷ name_q1 ∷ []); body = (c.Then (c.Set 2 (c.Const 1)) (c.Then (c.Set 3 (c.Const 1)) (c.Then (c.Malloc 7 3) (c.Then (c.If (c.Pointers (c.Temp 7) (c.Const 0) true) (c.Then (c.Return (Some (c.Const 0))) c.End) c.End) (c.Then (c.Store (root.Temp 7) (c.Offset 0 c.Here) (c.Const 2)) (c.Then (c.Load 3 (root.Temp 7) (c.Offset 0 c.Here)) (c.Then (c.Free (c.Temp 7)) (c.Then (c.Set 5 (c.Unary one.Invert kind.Unsigned (c.Const 0))) (c.Then (c.Set 2 (c.Const 1)) (c.Then (c.Return (Some (c.Temp 3))) c.End)))))))))) }) (s.Then 1 (s.Set ([]) ([])) s.NoBlock (s.Then 2 (s.Set ([]) ([])) s.NoBlock (s.Then 3 (s.Malloc name_k1 ([]) ([])) (s.WithBlock (s.Then 4 (s.If ([]) ([]) ([]) ([])) (s.WithBlock (s.Then 5 (s.Return ((Of2 binary.Cons (Of unary.Vi (Named name_h1)) (Of2 binary.Cons (Named name_q1) (Of2 binary.Cons (Of unary.Vi (Number (pos 3))) Nil))) ∷ []) ([]) ([])) s.NoBlock s.End) (s.WithBlock (s.Then 6 (s.Absurd ([])) s.NoBlock s.End) s.NoBlock)) s.End) (s.WithBlock (s.Then 7 (s.If (2 ∷ []) ([]) ([]) ([])) (s.WithBlock (s.Then 8 (s.Subst name_k1) s.NoBlock (s.Then 9 (s.Absurd ([])) s.NoBlock s.End)) (s.WithBlock (s.Then 10 (s.Store 2 ([]) ([])) s.NoBlock (s.Then 11 (s.Load 2 ([]) ([])) s.NoBlock (s.Then 12 (s.Free 2 3 ([])) s.NoBlock (s.Then 13 (s.Set ([]) ([])) s.NoBlock (s.Then 14 (s.Set ([]) ([])) s.NoBlock s.End))))) s.NoBlock)) s.End) s.NoBlock)) s.End))) ≡ (RefusedAt 15 0 10)
unfolding computing
random_244 = refl

random_245 : body_verdict (record { predicates = ([]); specs = ((record { is_void = false; name = name_f; params = (name_r0 ∷ name_s1 ∷ []); vars = ((name_e0, sort.Val) ∷ (name_l0, sort.List) ∷ (name_w1, sort.Val) ∷ (name_h1, sort.Int) ∷ (name_q1, sort.Val) ∷ []); pre = (record { opened = []; facts = ((Rel relation.Eq (Of unary.Len (Var 1 sort.List)) (Number (pos 4))) ∷ (Rel relation.Le (Number (pos 0)) (Var 3 sort.Int)) ∷ (Rel relation.Le (Var 3 sort.Int) (Number (pos 20))) ∷ []); locals = ((name_r0, (Var 0 sort.Val)) ∷ (name_s1, (Var 2 sort.Val)) ∷ []); items = ((Data (Number (pos 64)) (Var 0 sort.Val) (Var 1 sort.List)) ∷ (Data (Number (pos 64)) (Var 2 sort.Val) (Of2 binary.Cons (Of unary.Vi (Var 3 sort.Int)) (Of2 binary.Cons (Var 4 sort.Val) (Of2 binary.Cons (Of unary.Vi (Number (pos 3))) Nil)))) ∷ []) }); post = (record { opened = (sort.List ∷ []); facts = ([]); locals = []; items = ((Data (Number (pos 64)) (Var 0 sort.Val) (Var 1 sort.List)) ∷ (Data (Number (pos 64)) (Var 2 sort.Val) (Var 6 sort.List)) ∷ []) }) }) ∷ (record { is_void = false; name = name_main; params = ([]); vars = []; pre = (record { opened = []; facts = ([]); locals = []; items = ([]) }); post = (record { opened = []; facts = ((Rel relation.Eq (Var 0 sort.Val) (Of unary.Vi (Number (pos 0)))) ∷ []); locals = []; items = ([]) }) }) ∷ []) }) (record { is_void = false; name = name_f; params = (name_r0 ∷ name_s1 ∷ []); vars = ((name_e0, sort.Val) ∷ (name_l0, sort.List) ∷ (name_w1, sort.Val) ∷ (name_h1, sort.Int) ∷ (name_q1, sort.Val) ∷ []); pre = (record { opened = []; facts = ((Rel relation.Eq (Of unary.Len (Var 1 sort.List)) (Number (pos 4))) ∷ (Rel relation.Le (Number (pos 0)) (Var 3 sort.Int)) ∷ (Rel relation.Le (Var 3 sort.Int) (Number (pos 20))) ∷ []); locals = ((name_r0, (Var 0 sort.Val)) ∷ (name_s1, (Var 2 sort.Val)) ∷ []); items = ((Data (Number (pos 64)) (Var 0 sort.Val) (Var 1 sort.List)) ∷ (Data (Number (pos 64)) (Var 2 sort.Val) (Of2 binary.Cons (Of unary.Vi (Var 3 sort.Int)) (Of2 binary.Cons (Var 4 sort.Val) (Of2 binary.Cons (Of unary.Vi (Number (pos 3))) Nil)))) ∷ []) }); post = (record { opened = (sort.List ∷ []); facts = ([]); locals = []; items = ((Data (Number (pos 64)) (Var 0 sort.Val) (Var 1 sort.List)) ∷ (Data (Number (pos 64)) (Var 2 sort.Val) (Var 6 sort.List)) ∷ []) }) }) (record { temps = (name_r0 ∷ name_s1 ∷ name_s ∷ name_t ∷ name_i ∷ name_x1 ∷ name_d0 ∷ name_p1 ∷ name_q1 ∷ []); body = (c.Then (c.Set 2 (c.Const 1)) (c.Then (c.Set 3 (c.Const 1)) (c.Then (c.Malloc 7 3) (c.Then (c.If (c.Pointers (c.Temp 7) (c.Const 0) true) (c.Then (c.Return (Some (c.Const 0))) c.End) c.End) (c.Then (c.Store (root.Temp 7) (c.Offset 0 c.Here) (c.Const 2)) (c.Then (c.Load 3 (root.Temp 7) (c.Offset 0 c.Here)) (c.Then (c.Free (c.Temp 7)) (c.Then (c.Set 5 (c.Unary one.Invert kind.Unsigned (c.Const 0))) (c.Then (c.Set 2 (c.Const 1)) (c.Then (c.Return (Some (c.Temp 3))) c.End)))))))))) }) (s.Then 1 (s.Set ([]) ([])) s.NoBlock (s.Then 2 (s.Set ([]) ([])) s.NoBlock (s.Then 3 (s.Malloc name_h1 ([]) ([])) (s.WithBlock (s.Then 4 (s.If ([]) ([]) ([]) ([])) (s.WithBlock (s.Then 5 (s.Return ((Of2 binary.Cons (Of unary.Vi (Named name_h1)) (Of2 binary.Cons (Named name_q1) (Of2 binary.Cons (Of unary.Vi (Number (pos 3))) Nil))) ∷ []) ([]) ([])) s.NoBlock s.End) (s.WithBlock (s.Then 6 (s.Absurd ([])) s.NoBlock s.End) s.NoBlock)) s.End) (s.WithBlock (s.Then 7 (s.If (2 ∷ []) ([]) ([]) ([])) (s.WithBlock (s.Then 8 (s.Subst name_k1) s.NoBlock (s.Then 9 (s.Absurd ([])) s.NoBlock s.End)) (s.WithBlock (s.Then 10 (s.Store 2 ([]) ([])) s.NoBlock (s.Then 11 (s.Load 2 ([]) ([])) s.NoBlock (s.Then 12 (s.Free 2 3 ([])) s.NoBlock (s.Then 13 (s.Set ([]) ([])) s.NoBlock (s.Then 14 (s.Set ([]) ([])) s.NoBlock (s.Then 15 (s.Return ((Of2 binary.Cons (Of unary.Vi (Named name_h1)) (Of2 binary.Cons (Named name_q1) (Of2 binary.Cons (Of unary.Vi (Number (pos 3))) Nil))) ∷ []) ([]) ([])) s.NoBlock s.End)))))) s.NoBlock)) s.End) s.NoBlock)) s.End))) ≡ (RefusedAt 3 14 6)
unfolding computing
random_245 = refl

random_246 : body_verdict (record { predicates = ([]); specs = ((record { is_void = false; name = name_f; params = (name_r0 ∷ name_s1 ∷ []); vars = ((name_e0, sort.Val) ∷ (name_l0, sort.List) ∷ (name_w1, sort.Val) ∷ (name_h1, sort.Int) ∷ (name_q1, sort.Val) ∷ []); pre = (record { opened = []; facts = ((Rel relation.Eq (Of unary.Len (Var 1 sort.List)) (Number (pos 4))) ∷ (Rel relation.Le (Number (pos 0)) (Var 3 sort.Int)) ∷ (Rel relation.Le (Var 3 sort.Int) (Number (pos 20))) ∷ []); locals = ((name_r0, (Var 0 sort.Val)) ∷ (name_s1, (Var 2 sort.Val)) ∷ []); items = ((Data (Number (pos 64)) (Var 0 sort.Val) (Var 1 sort.List)) ∷ (Data (Number (pos 64)) (Var 2 sort.Val) (Of2 binary.Cons (Of unary.Vi (Var 3 sort.Int)) (Of2 binary.Cons (Var 4 sort.Val) (Of2 binary.Cons (Of unary.Vi (Number (pos 3))) Nil)))) ∷ []) }); post = (record { opened = (sort.List ∷ []); facts = ([]); locals = []; items = ((Data (Number (pos 64)) (Var 0 sort.Val) (Var 1 sort.List)) ∷ (Data (Number (pos 64)) (Var 2 sort.Val) (Var 6 sort.List)) ∷ []) }) }) ∷ (record { is_void = false; name = name_main; params = ([]); vars = []; pre = (record { opened = []; facts = ([]); locals = []; items = ([]) }); post = (record { opened = []; facts = ((Rel relation.Eq (Var 0 sort.Val) (Of unary.Vi (Number (pos 0)))) ∷ []); locals = []; items = ([]) }) }) ∷ []) }) (record { is_void = false; name = name_f; params = (name_r0 ∷ name_s1 ∷ []); vars = ((name_e0, sort.Val) ∷ (name_l0, sort.List) ∷ (name_w1, sort.Val) ∷ (name_h1, sort.Int) ∷ (name_q1, sort.Val) ∷ []); pre = (record { opened = []; facts = ((Rel relation.Eq (Of unary.Len (Var 1 sort.List)) (Number (pos 4))) ∷ (Rel relation.Le (Number (pos 0)) (Var 3 sort.Int)) ∷ (Rel relation.Le (Var 3 sort.Int) (Number (pos 20))) ∷ []); locals = ((name_r0, (Var 0 sort.Val)) ∷ (name_s1, (Var 2 sort.Val)) ∷ []); items = ((Data (Number (pos 64)) (Var 0 sort.Val) (Var 1 sort.List)) ∷ (Data (Number (pos 64)) (Var 2 sort.Val) (Of2 binary.Cons (Of unary.Vi (Var 3 sort.Int)) (Of2 binary.Cons (Var 4 sort.Val) (Of2 binary.Cons (Of unary.Vi (Number (pos 3))) Nil)))) ∷ []) }); post = (record { opened = (sort.List ∷ []); facts = ([]); locals = []; items = ((Data (Number (pos 64)) (Var 0 sort.Val) (Var 1 sort.List)) ∷ (Data (Number (pos 64)) (Var 2 sort.Val) (Var 6 sort.List)) ∷ []) }) }) (record { temps = (name_r0 ∷ name_s1 ∷ name_s ∷ name_t ∷ name_i ∷ name_x1 ∷ name_d0 ∷ name_p1 ∷ name_q1 ∷ []); body = (c.Then (c.Set 2 (c.Const 1)) (c.Then (c.Set 3 (c.Const 1)) (c.Then (c.Malloc 7 3) (c.Then (c.If (c.Pointers (c.Temp 7) (c.Const 0) true) (c.Then (c.Return (Some (c.Const 0))) c.End) c.End) (c.Then (c.Store (root.Temp 7) (c.Offset 0 c.Here) (c.Const 2)) (c.Then (c.Load 3 (root.Temp 7) (c.Offset 0 c.Here)) (c.Then (c.Free (c.Temp 7)) (c.Then (c.Set 5 (c.Unary one.Invert kind.Unsigned (c.Const 0))) (c.Then (c.Set 2 (c.Const 1)) (c.Then (c.Return (Some (c.Temp 3))) c.End)))))))))) }) (s.Then 1 (s.Set ([]) ([])) s.NoBlock (s.Then 2 (s.Malloc name_k1 ([]) ([])) (s.WithBlock (s.Then 3 (s.If ([]) ([]) ([]) ([])) (s.WithBlock (s.Then 4 (s.Return ((Of2 binary.Cons (Of unary.Vi (Named name_h1)) (Of2 binary.Cons (Named name_q1) (Of2 binary.Cons (Of unary.Vi (Number (pos 3))) Nil))) ∷ []) ([]) ([])) s.NoBlock s.End) (s.WithBlock (s.Then 5 (s.Absurd ([])) s.NoBlock s.End) s.NoBlock)) s.End) (s.WithBlock (s.Then 6 (s.If (2 ∷ []) ([]) ([]) ([])) (s.WithBlock (s.Then 7 (s.Subst name_k1) s.NoBlock (s.Then 8 (s.Absurd ([])) s.NoBlock s.End)) (s.WithBlock (s.Then 9 (s.Store 2 ([]) ([])) s.NoBlock (s.Then 10 (s.Load 2 ([]) ([])) s.NoBlock (s.Then 11 (s.Free 2 3 ([])) s.NoBlock (s.Then 12 (s.Set ([]) ([])) s.NoBlock (s.Then 13 (s.Set ([]) ([])) s.NoBlock (s.Then 14 (s.Return ((Of2 binary.Cons (Of unary.Vi (Named name_h1)) (Of2 binary.Cons (Named name_q1) (Of2 binary.Cons (Of unary.Vi (Number (pos 3))) Nil))) ∷ []) ([]) ([])) s.NoBlock s.End)))))) s.NoBlock)) s.End) s.NoBlock)) s.End)) ≡ (RefusedAt 2 14 1)
unfolding computing
random_246 = refl

random_247 : body_verdict (record { predicates = ([]); specs = ((record { is_void = false; name = name_f; params = (name_r0 ∷ name_s1 ∷ []); vars = ((name_e0, sort.Val) ∷ (name_l0, sort.List) ∷ (name_w1, sort.Val) ∷ (name_h1, sort.Int) ∷ (name_q1, sort.Val) ∷ []); pre = (record { opened = []; facts = ((Rel relation.Eq (Of unary.Len (Var 1 sort.List)) (Number (pos 4))) ∷ (Rel relation.Le (Number (pos 0)) (Var 3 sort.Int)) ∷ (Rel relation.Le (Var 3 sort.Int) (Number (pos 20))) ∷ []); locals = ((name_r0, (Var 0 sort.Val)) ∷ (name_s1, (Var 2 sort.Val)) ∷ []); items = ((Data (Number (pos 64)) (Var 0 sort.Val) (Var 1 sort.List)) ∷ (Data (Number (pos 64)) (Var 2 sort.Val) (Of2 binary.Cons (Of unary.Vi (Var 3 sort.Int)) (Of2 binary.Cons (Var 4 sort.Val) (Of2 binary.Cons (Of unary.Vi (Number (pos 3))) Nil)))) ∷ []) }); post = (record { opened = (sort.List ∷ []); facts = ([]); locals = []; items = ((Data (Number (pos 64)) (Var 0 sort.Val) (Var 1 sort.List)) ∷ (Data (Number (pos 64)) (Var 2 sort.Val) (Var 6 sort.List)) ∷ []) }) }) ∷ (record { is_void = false; name = name_main; params = ([]); vars = []; pre = (record { opened = []; facts = ([]); locals = []; items = ([]) }); post = (record { opened = []; facts = ((Rel relation.Eq (Var 0 sort.Val) (Of unary.Vi (Number (pos 0)))) ∷ []); locals = []; items = ([]) }) }) ∷ []) }) (record { is_void = false; name = name_f; params = (name_r0 ∷ name_s1 ∷ []); vars = ((name_e0, sort.Val) ∷ (name_l0, sort.List) ∷ (name_w1, sort.Val) ∷ (name_h1, sort.Int) ∷ (name_q1, sort.Val) ∷ []); pre = (record { opened = []; facts = ((Rel relation.Eq (Of unary.Len (Var 1 sort.List)) (Number (pos 4))) ∷ (Rel relation.Le (Number (pos 0)) (Var 3 sort.Int)) ∷ (Rel relation.Le (Var 3 sort.Int) (Number (pos 20))) ∷ []); locals = ((name_r0, (Var 0 sort.Val)) ∷ (name_s1, (Var 2 sort.Val)) ∷ []); items = ((Data (Number (pos 64)) (Var 0 sort.Val) (Var 1 sort.List)) ∷ (Data (Number (pos 64)) (Var 2 sort.Val) (Of2 binary.Cons (Of unary.Vi (Var 3 sort.Int)) (Of2 binary.Cons (Var 4 sort.Val) (Of2 binary.Cons (Of unary.Vi (Number (pos 3))) Nil)))) ∷ []) }); post = (record { opened = (sort.List ∷ []); facts = ([]); locals = []; items = ((Data (Number (pos 64)) (Var 0 sort.Val) (Var 1 sort.List)) ∷ (Data (Number (pos 64)) (Var 2 sort.Val) (Var 6 sort.List)) ∷ []) }) }) (record { temps = (name_r0 ∷ name_s1 ∷ name_s ∷ name_t ∷ name_i ∷ name_x1 ∷ name_d0 ∷ name_p1 ∷ name_q1 ∷ []); body = (c.Then (c.Set 2 (c.Const 1)) (c.Then (c.Set 3 (c.Const 1)) (c.Then (c.Malloc 7 3) (c.Then (c.If (c.Pointers (c.Temp 7) (c.Const 0) true) (c.Then (c.Return (Some (c.Const 0))) c.End) c.End) (c.Then (c.Store (root.Temp 7) (c.Offset 0 c.Here) (c.Const 2)) (c.Then (c.Load 3 (root.Temp 7) (c.Offset 0 c.Here)) (c.Then (c.Free (c.Temp 7)) (c.Then (c.Set 5 (c.Unary one.Invert kind.Unsigned (c.Const 0))) (c.Then (c.Set 2 (c.Const 1)) (c.Then (c.Return (Some (c.Temp 3))) c.End)))))))))) }) (s.Then 1 (s.Set ([]) ([])) s.NoBlock (s.Then 2 (s.Set ([]) ([])) s.NoBlock (s.Then 3 (s.Malloc name_k1 ([]) ([])) (s.WithBlock (s.Then 4 (s.Return ((Of2 binary.Cons (Of unary.Vi (Named name_h1)) (Of2 binary.Cons (Named name_q1) (Of2 binary.Cons (Of unary.Vi (Number (pos 3))) Nil))) ∷ []) ([]) ([])) s.NoBlock (s.Then 5 (s.If ([]) ([]) ([]) ([])) (s.WithBlock s.End (s.WithBlock (s.Then 6 (s.Absurd ([])) s.NoBlock s.End) s.NoBlock)) s.End)) (s.WithBlock (s.Then 7 (s.If (2 ∷ []) ([]) ([]) ([])) (s.WithBlock (s.Then 8 (s.Subst name_k1) s.NoBlock (s.Then 9 (s.Absurd ([])) s.NoBlock s.End)) (s.WithBlock (s.Then 10 (s.Store 2 ([]) ([])) s.NoBlock (s.Then 11 (s.Load 2 ([]) ([])) s.NoBlock (s.Then 12 (s.Free 2 3 ([])) s.NoBlock (s.Then 13 (s.Set ([]) ([])) s.NoBlock (s.Then 14 (s.Set ([]) ([])) s.NoBlock (s.Then 15 (s.Return ((Of2 binary.Cons (Of unary.Vi (Named name_h1)) (Of2 binary.Cons (Named name_q1) (Of2 binary.Cons (Of unary.Vi (Number (pos 3))) Nil))) ∷ []) ([]) ([])) s.NoBlock s.End)))))) s.NoBlock)) s.End) s.NoBlock)) s.End))) ≡ (RefusedAt 4 9 1)
unfolding computing
random_247 = refl

random_248 : body_verdict (record { predicates = ([]); specs = ((record { is_void = true; name = name_f; params = (name_s0 ∷ []); vars = ((name_w0, sort.Val) ∷ (name_h0, sort.Int) ∷ (name_q0, sort.Val) ∷ []); pre = (record { opened = []; facts = ((Rel relation.Le (Number (pos 0)) (Var 1 sort.Int)) ∷ (Rel relation.Le (Var 1 sort.Int) (Number (pos 20))) ∷ []); locals = ((name_s0, (Var 0 sort.Val)) ∷ []); items = ((Data (Number (pos 64)) (Var 0 sort.Val) (Of2 binary.Cons (Of unary.Vi (Var 1 sort.Int)) (Of2 binary.Cons (Var 2 sort.Val) (Of2 binary.Cons (Of unary.Vi (Number (pos 3))) Nil)))) ∷ []) }); post = (record { opened = (sort.List ∷ []); facts = ([]); locals = []; items = ((Data (Number (pos 64)) (Var 0 sort.Val) (Var 4 sort.List)) ∷ []) }) }) ∷ (record { is_void = false; name = name_main; params = ([]); vars = []; pre = (record { opened = []; facts = ([]); locals = []; items = ([]) }); post = (record { opened = []; facts = ((Rel relation.Eq (Var 0 sort.Val) (Of unary.Vi (Number (pos 0)))) ∷ []); locals = []; items = ([]) }) }) ∷ []) }) (record { is_void = true; name = name_f; params = (name_s0 ∷ []); vars = ((name_w0, sort.Val) ∷ (name_h0, sort.Int) ∷ (name_q0, sort.Val) ∷ []); pre = (record { opened = []; facts = ((Rel relation.Le (Number (pos 0)) (Var 1 sort.Int)) ∷ (Rel relation.Le (Var 1 sort.Int) (Number (pos 20))) ∷ []); locals = ((name_s0, (Var 0 sort.Val)) ∷ []); items = ((Data (Number (pos 64)) (Var 0 sort.Val) (Of2 binary.Cons (Of unary.Vi (Var 1 sort.Int)) (Of2 binary.Cons (Var 2 sort.Val) (Of2 binary.Cons (Of unary.Vi (Number (pos 3))) Nil)))) ∷ []) }); post = (record { opened = (sort.List ∷ []); facts = ([]); locals = []; items = ((Data (Number (pos 64)) (Var 0 sort.Val) (Var 4 sort.List)) ∷ []) }) }) (record { temps = (name_s0 ∷ name_s ∷ name_t ∷ name_i ∷ name_x1 ∷ name_d0 ∷ name_p1 ∷ name_q1 ∷ []); body = (c.Then (c.Set 2 (c.Const 1)) (c.Then (c.Store (root.Temp 0) (c.Offset 0 c.Here) (c.Temp 2)) (c.Then (c.Load 2 (root.Temp 0) (c.Offset 0 c.Here)) (c.Then (c.Set 1 (c.Binary two.Sub kind.Signed (c.Binary two.Add kind.Signed (c.Const 3) (c.Const 1)) (c.Binary two.Lt kind.Signed (c.Const 3) (c.Const 1)))) (c.Then (c.Set 4 (c.Const 0)) (c.Then (c.Set 3 (c.Const 0)) (c.Then (c.Loop (c.Then (c.If (c.Nonzero kind.Signed (c.Binary two.Lt kind.Signed (c.Temp 3) (c.Const 1))) (c.Then (c.Set 4 (c.Binary two.Add kind.Unsigned (c.Temp 4) (c.Const 2))) (c.Then (c.Set 3 (c.Binary two.Add kind.Signed (c.Temp 3) (c.Const 1))) (c.Then c.Skip c.End))) (c.Then c.Break c.End)) c.End)) (c.Then (c.Return None) c.End)))))))) }) (s.Then 1 (s.Set ([]) ([])) s.NoBlock (s.Then 2 (s.Store 0 ([]) ([])) s.NoBlock (s.Then 3 (s.Load 0 ([]) ([])) s.NoBlock (s.Then 4 (s.Bounds 0 None ([])) s.NoBlock (s.Then 5 (s.Set ([]) ([])) s.NoBlock (s.Then 6 (s.Set ([]) ([])) s.NoBlock (s.Then 7 (s.Set ([]) ([])) s.NoBlock (s.Then 8 (s.While (record { opened = (sort.Int ∷ sort.Int ∷ []); facts = ((Rel relation.Le (Number (pos 0)) (Var 0 sort.Int)) ∷ (Rel relation.Le (Var 0 sort.Int) (Number (pos 1))) ∷ []); locals = ((name_s0, (Named name_w0)) ∷ (name_s, (Of unary.Vi (Number (pos 4)))) ∷ (name_t, (Of unary.Vi (Number (pos 1)))) ∷ (name_i, (Of unary.Vi (Var 0 sort.Int))) ∷ (name_x1, (Of unary.Vi (Var 1 sort.Int))) ∷ []); items = ((Data (Number (pos 64)) (Named name_w0) (Of2 binary.Cons (Of unary.Vi (Number (pos 1))) (Of2 binary.Cons (Named name_q0) (Of2 binary.Cons (Of unary.Vi (Number (pos 3))) Nil)))) ∷ []) }) (record { opened = (sort.Int ∷ sort.Int ∷ []); facts = ((Rel relation.Le (Number (pos 0)) (Var 0 sort.Int)) ∷ (Rel relation.Le (Var 0 sort.Int) (Number (pos 1))) ∷ (Rel relation.Le (Number (pos 1)) (Var 0 sort.Int)) ∷ []); locals = ((name_s0, (Named name_w0)) ∷ (name_s, (Of unary.Vi (Number (pos 4)))) ∷ (name_t, (Of unary.Vi (Number (pos 1)))) ∷ (name_i, (Of unary.Vi (Var 0 sort.Int))) ∷ (name_x1, (Of unary.Vi (Var 1 sort.Int))) ∷ []); items = ((Data (Number (pos 64)) (Named name_w0) (Of2 binary.Cons (Of unary.Vi (Number (pos 1))) (Of2 binary.Cons (Named name_q0) (Of2 binary.Cons (Of unary.Vi (Number (pos 3))) Nil)))) ∷ []) }) (name_k3 ∷ name_k4 ∷ []) ([]) (name_k1 ∷ name_k2 ∷ [])) (s.WithBlock (s.Then 9 (s.Meet ((Number (pos 0)) ∷ (Number (pos 0)) ∷ []) ([])) s.NoBlock s.End) (s.WithBlock (s.Then 10 (s.If ([]) ((record { lines = ((line.Comb (((pos 1), 4) ∷ ((pos 1), 6) ∷ [])) ∷ []) }) ∷ (record { lines = ((line.Comb (((pos 1), 5) ∷ ((pos 1), 6) ∷ [])) ∷ []) }) ∷ []) ([]) ([])) (s.WithBlock (s.Then 11 (s.Naming name_k5 (Of unary.Vi (Number (pos 4)))) s.NoBlock (s.Then 12 (s.Set ([]) ([])) s.NoBlock (s.Then 13 (s.Subst name_k5) s.NoBlock (s.Then 14 (s.Set ([]) ((record { lines = ((line.Comb (((pos 1), 4) ∷ ((pos 1), 7) ∷ [])) ∷ []) }) ∷ (record { lines = ((line.Comb (((pos 1), 5) ∷ ((pos 1), 7) ∷ [])) ∷ []) }) ∷ (record { lines = ((line.Comb (((pos 1), 4) ∷ ((pos 1), 7) ∷ [])) ∷ []) }) ∷ (record { lines = ((line.Comb (((pos 1), 5) ∷ ((pos 1), 7) ∷ [])) ∷ []) }) ∷ [])) s.NoBlock (s.Then 15 (s.Fall ((Of2 binary.Add (Named name_k1) (Number (pos 1))) ∷ (Of2 binary.Add (Named name_k2) (Number (pos 2))) ∷ []) ((record { lines = ((line.Comb (((pos 1), 4) ∷ ((pos 1), 7) ∷ [])) ∷ []) }) ∷ [])) s.NoBlock s.End))))) (s.WithBlock (s.Then 16 (s.Break ((Named name_k1) ∷ (Named name_k2) ∷ []) ([])) s.NoBlock s.End) s.NoBlock)) s.End) s.NoBlock)) (s.Then 17 (s.Return ((Of2 binary.Cons (Of unary.Vi (Number (pos 1))) (Of2 binary.Cons (Named name_q0) (Of2 binary.Cons (Of unary.Vi (Number (pos 3))) Nil))) ∷ []) ([]) ([])) s.NoBlock s.End))))))))) ≡ (RefusedAt 15 10 1)
unfolding computing
random_248 = refl

random_249 : body_verdict (record { predicates = ([]); specs = ((record { is_void = true; name = name_f; params = (name_s0 ∷ []); vars = ((name_w0, sort.Val) ∷ (name_h0, sort.Int) ∷ (name_q0, sort.Val) ∷ []); pre = (record { opened = []; facts = ((Rel relation.Le (Number (pos 0)) (Var 1 sort.Int)) ∷ (Rel relation.Le (Var 1 sort.Int) (Number (pos 20))) ∷ []); locals = ((name_s0, (Var 0 sort.Val)) ∷ []); items = ((Data (Number (pos 64)) (Var 0 sort.Val) (Of2 binary.Cons (Of unary.Vi (Var 1 sort.Int)) (Of2 binary.Cons (Var 2 sort.Val) (Of2 binary.Cons (Of unary.Vi (Number (pos 3))) Nil)))) ∷ []) }); post = (record { opened = (sort.List ∷ []); facts = ([]); locals = []; items = ((Data (Number (pos 64)) (Var 0 sort.Val) (Var 4 sort.List)) ∷ []) }) }) ∷ (record { is_void = false; name = name_main; params = ([]); vars = []; pre = (record { opened = []; facts = ([]); locals = []; items = ([]) }); post = (record { opened = []; facts = ((Rel relation.Eq (Var 0 sort.Val) (Of unary.Vi (Number (pos 0)))) ∷ []); locals = []; items = ([]) }) }) ∷ []) }) (record { is_void = true; name = name_f; params = (name_s0 ∷ []); vars = ((name_w0, sort.Val) ∷ (name_h0, sort.Int) ∷ (name_q0, sort.Val) ∷ []); pre = (record { opened = []; facts = ((Rel relation.Le (Number (pos 0)) (Var 1 sort.Int)) ∷ (Rel relation.Le (Var 1 sort.Int) (Number (pos 20))) ∷ []); locals = ((name_s0, (Var 0 sort.Val)) ∷ []); items = ((Data (Number (pos 64)) (Var 0 sort.Val) (Of2 binary.Cons (Of unary.Vi (Var 1 sort.Int)) (Of2 binary.Cons (Var 2 sort.Val) (Of2 binary.Cons (Of unary.Vi (Number (pos 3))) Nil)))) ∷ []) }); post = (record { opened = (sort.List ∷ []); facts = ([]); locals = []; items = ((Data (Number (pos 64)) (Var 0 sort.Val) (Var 4 sort.List)) ∷ []) }) }) (record { temps = (name_s0 ∷ name_s ∷ name_t ∷ name_i ∷ name_x1 ∷ name_d0 ∷ name_p1 ∷ name_q1 ∷ []); body = (c.Then (c.Set 2 (c.Const 1)) (c.Then (c.Store (root.Temp 0) (c.Offset 0 c.Here) (c.Temp 2)) (c.Then (c.Load 2 (root.Temp 0) (c.Offset 0 c.Here)) (c.Then (c.Set 1 (c.Binary two.Sub kind.Signed (c.Binary two.Add kind.Signed (c.Const 3) (c.Const 1)) (c.Binary two.Lt kind.Signed (c.Const 3) (c.Const 1)))) (c.Then (c.Set 4 (c.Const 0)) (c.Then (c.Set 3 (c.Const 0)) (c.Then (c.Loop (c.Then (c.If (c.Nonzero kind.Signed (c.Binary two.Lt kind.Signed (c.Temp 3) (c.Const 1))) (c.Then (c.Set 4 (c.Binary two.Add kind.Unsigned (c.Temp 4) (c.Const 2))) (c.Then (c.Set 3 (c.Binary two.Add kind.Signed (c.Temp 3) (c.Const 1))) (c.Then c.Skip c.End))) (c.Then c.Break c.End)) c.End)) (c.Then (c.Return None) c.End)))))))) }) (s.Then 1 (s.Set ([]) ([])) s.NoBlock (s.Then 2 (s.Store 0 ([]) ([])) s.NoBlock (s.Then 3 (s.Load 0 ([]) ([])) s.NoBlock (s.Then 4 (s.Bounds 0 None ([])) s.NoBlock (s.Then 5 (s.Set ([]) ([])) s.NoBlock (s.Then 6 (s.Set ([]) ([])) s.NoBlock (s.Then 7 (s.Set ([]) ([])) s.NoBlock (s.Then 8 (s.While (record { opened = (sort.Int ∷ sort.Int ∷ []); facts = ((Rel relation.Le (Number (pos 0)) (Var 0 sort.Int)) ∷ (Rel relation.Le (Var 0 sort.Int) (Number (pos 1))) ∷ []); locals = ((name_s0, (Named name_w0)) ∷ (name_s, (Of unary.Vi (Number (pos 4)))) ∷ (name_t, (Of unary.Vi (Number (pos 1)))) ∷ (name_i, (Of unary.Vi (Var 0 sort.Int))) ∷ (name_x1, (Of unary.Vi (Var 1 sort.Int))) ∷ []); items = ((Data (Number (pos 64)) (Named name_w0) (Of2 binary.Cons (Of unary.Vi (Number (pos 1))) (Of2 binary.Cons (Named name_q0) (Of2 binary.Cons (Of unary.Vi (Number (pos 3))) Nil)))) ∷ []) }) (record { opened = (sort.Int ∷ sort.Int ∷ []); facts = ((Rel relation.Le (Number (pos 0)) (Var 0 sort.Int)) ∷ (Rel relation.Le (Var 0 sort.Int) (Number (pos 1))) ∷ (Rel relation.Le (Number (pos 1)) (Var 0 sort.Int)) ∷ []); locals = ((name_s0, (Named name_w0)) ∷ (name_s, (Of unary.Vi (Number (pos 4)))) ∷ (name_t, (Of unary.Vi (Number (pos 1)))) ∷ (name_i, (Of unary.Vi (Var 0 sort.Int))) ∷ (name_x1, (Of unary.Vi (Var 1 sort.Int))) ∷ []); items = ((Data (Number (pos 64)) (Named name_w0) (Of2 binary.Cons (Of unary.Vi (Number (pos 1))) (Of2 binary.Cons (Named name_q0) (Of2 binary.Cons (Of unary.Vi (Number (pos 3))) Nil)))) ∷ []) }) (name_k3 ∷ name_k4 ∷ []) ([]) (name_k1 ∷ name_k2 ∷ [])) (s.WithBlock (s.Then 9 (s.Meet ((Number (pos 0)) ∷ (Number (pos 0)) ∷ []) ([])) s.NoBlock s.End) (s.WithBlock (s.Then 10 (s.If ([]) ((record { lines = ((line.Comb (((pos 1), 4) ∷ ((pos 1), 6) ∷ [])) ∷ []) }) ∷ (record { lines = ((line.Comb (((pos 1), 5) ∷ ((pos 1), 6) ∷ [])) ∷ []) }) ∷ []) ([]) ([])) (s.WithBlock (s.Then 11 (s.Naming name_k5 (Of unary.Vi (Number (pos 4)))) s.NoBlock (s.Then 12 (s.Set ([]) ([])) s.NoBlock (s.Then 13 (s.Subst name_k5) s.NoBlock (s.Then 14 (s.Set ([]) ((record { lines = ((line.Comb (((pos 1), 4) ∷ ((pos 1), 7) ∷ [])) ∷ []) }) ∷ (record { lines = ((line.Comb (((pos 1), 5) ∷ ((pos 1), 7) ∷ [])) ∷ []) }) ∷ (record { lines = ((line.Comb (((pos 1), 4) ∷ ((pos 1), 7) ∷ [])) ∷ []) }) ∷ (record { lines = ((line.Comb (((pos 1), 5) ∷ ((pos 1), 7) ∷ [])) ∷ []) }) ∷ [])) s.NoBlock (s.Then 15 s.Skip s.NoBlock (s.Then 16 (s.Fall ((Of2 binary.Add (Named name_k1) (Number (pos 1))) ∷ (Of2 binary.Add (Named name_k2) (Number (pos 2))) ∷ []) ((record { lines = ((line.Comb (((pos 1), 4) ∷ ((pos 1), 7) ∷ [])) ∷ []) }) ∷ [])) s.NoBlock s.End)))))) (s.WithBlock (s.Then 17 (s.Break ([]) ([])) s.NoBlock s.End) s.NoBlock)) s.End) s.NoBlock)) (s.Then 18 (s.Return ((Of2 binary.Cons (Of unary.Vi (Number (pos 1))) (Of2 binary.Cons (Named name_q0) (Of2 binary.Cons (Of unary.Vi (Number (pos 3))) Nil))) ∷ []) ([]) ([])) s.NoBlock s.End))))))))) ≡ (RefusedAt 17 7 1)
unfolding computing
random_249 = refl

random_250 : body_verdict (record { predicates = ([]); specs = ((record { is_void = true; name = name_f; params = (name_s0 ∷ []); vars = ((name_w0, sort.Val) ∷ (name_h0, sort.Int) ∷ (name_q0, sort.Val) ∷ []); pre = (record { opened = []; facts = ((Rel relation.Le (Number (pos 0)) (Var 1 sort.Int)) ∷ (Rel relation.Le (Var 1 sort.Int) (Number (pos 20))) ∷ []); locals = ((name_s0, (Var 0 sort.Val)) ∷ []); items = ((Data (Number (pos 64)) (Var 0 sort.Val) (Of2 binary.Cons (Of unary.Vi (Var 1 sort.Int)) (Of2 binary.Cons (Var 2 sort.Val) (Of2 binary.Cons (Of unary.Vi (Number (pos 3))) Nil)))) ∷ []) }); post = (record { opened = (sort.List ∷ []); facts = ([]); locals = []; items = ((Data (Number (pos 64)) (Var 0 sort.Val) (Var 4 sort.List)) ∷ []) }) }) ∷ (record { is_void = false; name = name_main; params = ([]); vars = []; pre = (record { opened = []; facts = ([]); locals = []; items = ([]) }); post = (record { opened = []; facts = ((Rel relation.Eq (Var 0 sort.Val) (Of unary.Vi (Number (pos 0)))) ∷ []); locals = []; items = ([]) }) }) ∷ []) }) (record { is_void = true; name = name_f; params = (name_s0 ∷ []); vars = ((name_w0, sort.Val) ∷ (name_h0, sort.Int) ∷ (name_q0, sort.Val) ∷ []); pre = (record { opened = []; facts = ((Rel relation.Le (Number (pos 0)) (Var 1 sort.Int)) ∷ (Rel relation.Le (Var 1 sort.Int) (Number (pos 20))) ∷ []); locals = ((name_s0, (Var 0 sort.Val)) ∷ []); items = ((Data (Number (pos 64)) (Var 0 sort.Val) (Of2 binary.Cons (Of unary.Vi (Var 1 sort.Int)) (Of2 binary.Cons (Var 2 sort.Val) (Of2 binary.Cons (Of unary.Vi (Number (pos 3))) Nil)))) ∷ []) }); post = (record { opened = (sort.List ∷ []); facts = ([]); locals = []; items = ((Data (Number (pos 64)) (Var 0 sort.Val) (Var 4 sort.List)) ∷ []) }) }) (record { temps = (name_s0 ∷ name_s ∷ name_t ∷ name_i ∷ name_x1 ∷ name_d0 ∷ name_p1 ∷ name_q1 ∷ []); body = (c.Then (c.Set 2 (c.Const 1)) (c.Then (c.Store (root.Temp 0) (c.Offset 0 c.Here) (c.Temp 2)) (c.Then (c.Load 2 (root.Temp 0) (c.Offset 0 c.Here)) (c.Then (c.Set 1 (c.Binary two.Sub kind.Signed (c.Binary two.Add kind.Signed (c.Const 3) (c.Const 1)) (c.Binary two.Lt kind.Signed (c.Const 3) (c.Const 1)))) (c.Then (c.Set 4 (c.Const 0)) (c.Then (c.Set 3 (c.Const 0)) (c.Then (c.Loop (c.Then (c.If (c.Nonzero kind.Signed (c.Binary two.Lt kind.Signed (c.Temp 3) (c.Const 1))) (c.Then (c.Set 4 (c.Binary two.Add kind.Unsigned (c.Temp 4) (c.Const 2))) (c.Then (c.Set 3 (c.Binary two.Add kind.Signed (c.Temp 3) (c.Const 1))) (c.Then c.Skip c.End))) (c.Then c.Break c.End)) c.End)) (c.Then (c.Return None) c.End)))))))) }) (s.Then 1 (s.Store 0 ([]) ([])) s.NoBlock (s.Then 2 (s.Load 0 ([]) ([])) s.NoBlock (s.Then 3 (s.Bounds 0 None ([])) s.NoBlock (s.Then 4 (s.Set ([]) ([])) s.NoBlock (s.Then 5 (s.Set ([]) ([])) s.NoBlock (s.Then 6 (s.Set ([]) ([])) s.NoBlock (s.Then 7 (s.While (record { opened = (sort.Int ∷ sort.Int ∷ []); facts = ((Rel relation.Le (Number (pos 0)) (Var 0 sort.Int)) ∷ (Rel relation.Le (Var 0 sort.Int) (Number (pos 1))) ∷ []); locals = ((name_s0, (Named name_w0)) ∷ (name_s, (Of unary.Vi (Number (pos 4)))) ∷ (name_t, (Of unary.Vi (Number (pos 1)))) ∷ (name_i, (Of unary.Vi (Var 0 sort.Int))) ∷ (name_x1, (Of unary.Vi (Var 1 sort.Int))) ∷ []); items = ((Data (Number (pos 64)) (Named name_w0) (Of2 binary.Cons (Of unary.Vi (Number (pos 1))) (Of2 binary.Cons (Named name_q0) (Of2 binary.Cons (Of unary.Vi (Number (pos 3))) Nil)))) ∷ []) }) (record { opened = (sort.Int ∷ sort.Int ∷ []); facts = ((Rel relation.Le (Number (pos 0)) (Var 0 sort.Int)) ∷ (Rel relation.Le (Var 0 sort.Int) (Number (pos 1))) ∷ (Rel relation.Le (Number (pos 1)) (Var 0 sort.Int)) ∷ []); locals = ((name_s0, (Named name_w0)) ∷ (name_s, (Of unary.Vi (Number (pos 4)))) ∷ (name_t, (Of unary.Vi (Number (pos 1)))) ∷ (name_i, (Of unary.Vi (Var 0 sort.Int))) ∷ (name_x1, (Of unary.Vi (Var 1 sort.Int))) ∷ []); items = ((Data (Number (pos 64)) (Named name_w0) (Of2 binary.Cons (Of unary.Vi (Number (pos 1))) (Of2 binary.Cons (Named name_q0) (Of2 binary.Cons (Of unary.Vi (Number (pos 3))) Nil)))) ∷ []) }) (name_k3 ∷ name_k4 ∷ []) ([]) (name_k1 ∷ name_k2 ∷ [])) (s.WithBlock (s.Then 8 (s.Meet ((Number (pos 0)) ∷ (Number (pos 0)) ∷ []) ([])) s.NoBlock s.End) (s.WithBlock (s.Then 9 (s.If ([]) ((record { lines = ((line.Comb (((pos 1), 4) ∷ ((pos 1), 6) ∷ [])) ∷ []) }) ∷ (record { lines = ((line.Comb (((pos 1), 5) ∷ ((pos 1), 6) ∷ [])) ∷ []) }) ∷ []) ([]) ([])) (s.WithBlock (s.Then 10 (s.Naming name_k5 (Of unary.Vi (Number (pos 4)))) s.NoBlock (s.Then 11 (s.Set ([]) ([])) s.NoBlock (s.Then 12 (s.Subst name_k5) s.NoBlock (s.Then 13 (s.Set ([]) ((record { lines = ((line.Comb (((pos 1), 4) ∷ ((pos 1), 7) ∷ [])) ∷ []) }) ∷ (record { lines = ((line.Comb (((pos 1), 5) ∷ ((pos 1), 7) ∷ [])) ∷ []) }) ∷ (record { lines = ((line.Comb (((pos 1), 4) ∷ ((pos 1), 7) ∷ [])) ∷ []) }) ∷ (record { lines = ((line.Comb (((pos 1), 5) ∷ ((pos 1), 7) ∷ [])) ∷ []) }) ∷ [])) s.NoBlock (s.Then 14 s.Skip s.NoBlock (s.Then 15 (s.Fall ((Of2 binary.Add (Named name_k1) (Number (pos 1))) ∷ (Of2 binary.Add (Named name_k2) (Number (pos 2))) ∷ []) ((record { lines = ((line.Comb (((pos 1), 4) ∷ ((pos 1), 7) ∷ [])) ∷ []) }) ∷ [])) s.NoBlock s.End)))))) (s.WithBlock (s.Then 16 (s.Break ((Named name_k1) ∷ (Named name_k2) ∷ []) ([])) s.NoBlock s.End) s.NoBlock)) s.End) s.NoBlock)) (s.Then 17 (s.Return ((Of2 binary.Cons (Of unary.Vi (Number (pos 1))) (Of2 binary.Cons (Named name_q0) (Of2 binary.Cons (Of unary.Vi (Number (pos 3))) Nil))) ∷ []) ([]) ([])) s.NoBlock s.End)))))))) ≡ (RefusedAt 1 4 1)
unfolding computing
random_250 = refl

random_251 : body_verdict (record { predicates = ([]); specs = ((record { is_void = true; name = name_f; params = (name_s0 ∷ []); vars = ((name_w0, sort.Val) ∷ (name_h0, sort.Int) ∷ (name_q0, sort.Val) ∷ []); pre = (record { opened = []; facts = ((Rel relation.Le (Number (pos 0)) (Var 1 sort.Int)) ∷ (Rel relation.Le (Var 1 sort.Int) (Number (pos 20))) ∷ []); locals = ((name_s0, (Var 0 sort.Val)) ∷ []); items = ((Data (Number (pos 64)) (Var 0 sort.Val) (Of2 binary.Cons (Of unary.Vi (Var 1 sort.Int)) (Of2 binary.Cons (Var 2 sort.Val) (Of2 binary.Cons (Of unary.Vi (Number (pos 3))) Nil)))) ∷ []) }); post = (record { opened = (sort.List ∷ []); facts = ([]); locals = []; items = ((Data (Number (pos 64)) (Var 0 sort.Val) (Var 4 sort.List)) ∷ []) }) }) ∷ (record { is_void = false; name = name_main; params = ([]); vars = []; pre = (record { opened = []; facts = ([]); locals = []; items = ([]) }); post = (record { opened = []; facts = ((Rel relation.Eq (Var 0 sort.Val) (Of unary.Vi (Number (pos 0)))) ∷ []); locals = []; items = ([]) }) }) ∷ []) }) (record { is_void = true; name = name_f; params = (name_s0 ∷ []); vars = ((name_w0, sort.Val) ∷ (name_h0, sort.Int) ∷ (name_q0, sort.Val) ∷ []); pre = (record { opened = []; facts = ((Rel relation.Le (Number (pos 0)) (Var 1 sort.Int)) ∷ (Rel relation.Le (Var 1 sort.Int) (Number (pos 20))) ∷ []); locals = ((name_s0, (Var 0 sort.Val)) ∷ []); items = ((Data (Number (pos 64)) (Var 0 sort.Val) (Of2 binary.Cons (Of unary.Vi (Var 1 sort.Int)) (Of2 binary.Cons (Var 2 sort.Val) (Of2 binary.Cons (Of unary.Vi (Number (pos 3))) Nil)))) ∷ []) }); post = (record { opened = (sort.List ∷ []); facts = ([]); locals = []; items = ((Data (Number (pos 64)) (Var 0 sort.Val) (Var 4 sort.List)) ∷ []) }) }) (record { temps = (name_s0 ∷ name_s ∷ name_t ∷ name_i ∷ name_x1 ∷ name_d0 ∷ name_p1 ∷ name_q1 ∷ []); body = (c.Then (c.Set 2 (c.Const 1)) (c.Then (c.Store (root.Temp 0) (c.Offset 0 c.Here) (c.Temp 2)) (c.Then (c.Load 2 (root.Temp 0) (c.Offset 0 c.Here)) (c.Then (c.Set 1 (c.Binary two.Sub kind.Signed (c.Binary two.Add kind.Signed (c.Const 3) (c.Const 1)) (c.Binary two.Lt kind.Signed (c.Const 3) (c.Const 1)))) (c.Then (c.Set 4 (c.Const 0)) (c.Then (c.Set 3 (c.Const 0)) (c.Then (c.Loop (c.Then (c.If (c.Nonzero kind.Signed (c.Binary two.Lt kind.Signed (c.Temp 3) (c.Const 1))) (c.Then (c.Set 4 (c.Binary two.Add kind.Unsigned (c.Temp 4) (c.Const 2))) (c.Then (c.Set 3 (c.Binary two.Add kind.Signed (c.Temp 3) (c.Const 1))) (c.Then c.Skip c.End))) (c.Then c.Break c.End)) c.End)) (c.Then (c.Return None) c.End)))))))) }) (s.Then 1 (s.Set ([]) ([])) s.NoBlock (s.Then 2 (s.Store 0 ([]) ([])) s.NoBlock (s.Then 3 (s.Load 0 ([]) ([])) s.NoBlock (s.Then 4 (s.Bounds 0 None ([])) s.NoBlock (s.Then 5 (s.Set ([]) ([])) s.NoBlock (s.Then 6 (s.Set ([]) ([])) s.NoBlock (s.Then 7 (s.Set ([]) ([])) s.NoBlock (s.Then 8 (s.While (record { opened = (sort.Int ∷ sort.Int ∷ []); facts = ((Rel relation.Le (Number (pos 0)) (Var 0 sort.Int)) ∷ (Rel relation.Le (Var 0 sort.Int) (Number (pos 1))) ∷ []); locals = ((name_s0, (Named name_w0)) ∷ (name_s, (Of unary.Vi (Number (pos 4)))) ∷ (name_t, (Of unary.Vi (Number (pos 1)))) ∷ (name_i, (Of unary.Vi (Var 0 sort.Int))) ∷ (name_x1, (Of unary.Vi (Var 1 sort.Int))) ∷ []); items = ((Data (Number (pos 64)) (Named name_w0) (Of2 binary.Cons (Of unary.Vi (Number (pos 1))) (Of2 binary.Cons (Named name_q0) (Of2 binary.Cons (Of unary.Vi (Number (pos 3))) Nil)))) ∷ []) }) (record { opened = (sort.Int ∷ sort.Int ∷ []); facts = ((Rel relation.Le (Number (pos 0)) (Var 0 sort.Int)) ∷ (Rel relation.Le (Var 0 sort.Int) (Number (pos 1))) ∷ (Rel relation.Le (Number (pos 1)) (Var 0 sort.Int)) ∷ []); locals = ((name_s0, (Named name_w0)) ∷ (name_s, (Of unary.Vi (Number (pos 4)))) ∷ (name_t, (Of unary.Vi (Number (pos 1)))) ∷ (name_i, (Of unary.Vi (Var 0 sort.Int))) ∷ (name_x1, (Of unary.Vi (Var 1 sort.Int))) ∷ []); items = ((Data (Number (pos 64)) (Named name_w0) (Of2 binary.Cons (Of unary.Vi (Number (pos 1))) (Of2 binary.Cons (Named name_q0) (Of2 binary.Cons (Of unary.Vi (Number (pos 3))) Nil)))) ∷ []) }) (name_k3 ∷ name_k4 ∷ []) ([]) (name_k1 ∷ name_k2 ∷ [])) (s.WithBlock (s.Then 9 (s.Meet ((Number (pos 0)) ∷ (Number (pos 0)) ∷ []) ([])) s.NoBlock s.End) (s.WithBlock (s.Then 10 (s.If ([]) ((record { lines = ((line.Comb (((pos 1), 4) ∷ ((pos 1), 6) ∷ [])) ∷ []) }) ∷ (record { lines = ((line.Comb (((pos 1), 5) ∷ ((pos 1), 6) ∷ [])) ∷ []) }) ∷ []) ([]) ([])) (s.WithBlock (s.Then 11 (s.Naming name_k5 (Of unary.Vi (Number (pos 4)))) s.NoBlock (s.Then 12 (s.Set ([]) ([])) s.NoBlock (s.Then 13 (s.Subst name_k5) s.NoBlock (s.Then 14 (s.Set ([]) ((record { lines = ((line.Comb (((pos 1), 4) ∷ ((pos 1), 8) ∷ [])) ∷ []) }) ∷ (record { lines = ((line.Comb (((pos 1), 5) ∷ ((pos 1), 7) ∷ [])) ∷ []) }) ∷ (record { lines = ((line.Comb (((pos 1), 4) ∷ ((pos 1), 7) ∷ [])) ∷ []) }) ∷ (record { lines = ((line.Comb (((pos 1), 5) ∷ ((pos 1), 7) ∷ [])) ∷ []) }) ∷ [])) s.NoBlock (s.Then 15 s.Skip s.NoBlock (s.Then 16 (s.Fall ((Of2 binary.Add (Named name_k1) (Number (pos 1))) ∷ (Of2 binary.Add (Named name_k2) (Number (pos 2))) ∷ []) ((record { lines = ((line.Comb (((pos 1), 4) ∷ ((pos 1), 7) ∷ [])) ∷ []) }) ∷ [])) s.NoBlock s.End)))))) (s.WithBlock (s.Then 17 (s.Break ((Named name_k1) ∷ (Named name_k2) ∷ []) ([])) s.NoBlock s.End) s.NoBlock)) s.End) s.NoBlock)) (s.Then 18 (s.Return ((Of2 binary.Cons (Of unary.Vi (Number (pos 1))) (Of2 binary.Cons (Named name_q0) (Of2 binary.Cons (Of unary.Vi (Number (pos 3))) Nil))) ∷ []) ([]) ([])) s.NoBlock s.End))))))))) ≡ (RefusedAt 14 2 3)
unfolding computing
random_251 = refl

random_252 : body_verdict (record { predicates = ([]); specs = ((record { is_void = true; name = name_f; params = (name_s0 ∷ []); vars = ((name_w0, sort.Val) ∷ (name_h0, sort.Int) ∷ (name_q0, sort.Val) ∷ []); pre = (record { opened = []; facts = ((Rel relation.Le (Number (pos 0)) (Var 1 sort.Int)) ∷ (Rel relation.Le (Var 1 sort.Int) (Number (pos 20))) ∷ []); locals = ((name_s0, (Var 0 sort.Val)) ∷ []); items = ((Data (Number (pos 64)) (Var 0 sort.Val) (Of2 binary.Cons (Of unary.Vi (Var 1 sort.Int)) (Of2 binary.Cons (Var 2 sort.Val) (Of2 binary.Cons (Of unary.Vi (Number (pos 3))) Nil)))) ∷ []) }); post = (record { opened = (sort.List ∷ []); facts = ([]); locals = []; items = ((Data (Number (pos 64)) (Var 0 sort.Val) (Var 4 sort.List)) ∷ []) }) }) ∷ (record { is_void = false; name = name_main; params = ([]); vars = []; pre = (record { opened = []; facts = ([]); locals = []; items = ([]) }); post = (record { opened = []; facts = ((Rel relation.Eq (Var 0 sort.Val) (Of unary.Vi (Number (pos 0)))) ∷ []); locals = []; items = ([]) }) }) ∷ []) }) (record { is_void = true; name = name_f; params = (name_s0 ∷ []); vars = ((name_w0, sort.Val) ∷ (name_h0, sort.Int) ∷ (name_q0, sort.Val) ∷ []); pre = (record { opened = []; facts = ((Rel relation.Le (Number (pos 0)) (Var 1 sort.Int)) ∷ (Rel relation.Le (Var 1 sort.Int) (Number (pos 20))) ∷ []); locals = ((name_s0, (Var 0 sort.Val)) ∷ []); items = ((Data (Number (pos 64)) (Var 0 sort.Val) (Of2 binary.Cons (Of unary.Vi (Var 1 sort.Int)) (Of2 binary.Cons (Var 2 sort.Val) (Of2 binary.Cons (Of unary.Vi (Number (pos 3))) Nil)))) ∷ []) }); post = (record { opened = (sort.List ∷ []); facts = ([]); locals = []; items = ((Data (Number (pos 64)) (Var 0 sort.Val) (Var 4 sort.List)) ∷ []) }) }) (record { temps = (name_s0 ∷ name_s ∷ name_t ∷ name_i ∷ name_x1 ∷ name_d0 ∷ name_p1 ∷ name_q1 ∷ []); body = (c.Then (c.Set 2 (c.Const 1)) (c.Then (c.Store (root.Temp 0) (c.Offset 0 c.Here) (c.Temp 2)) (c.Then (c.Load 2 (root.Temp 0) (c.Offset 0 c.Here)) (c.Then (c.Set 1 (c.Binary two.Sub kind.Signed (c.Binary two.Add kind.Signed (c.Const 3) (c.Const 1)) (c.Binary two.Lt kind.Signed (c.Const 3) (c.Const 1)))) (c.Then (c.Set 4 (c.Const 0)) (c.Then (c.Set 3 (c.Const 0)) (c.Then (c.Loop (c.Then (c.If (c.Nonzero kind.Signed (c.Binary two.Lt kind.Signed (c.Temp 3) (c.Const 1))) (c.Then (c.Set 4 (c.Binary two.Add kind.Unsigned (c.Temp 4) (c.Const 2))) (c.Then (c.Set 3 (c.Binary two.Add kind.Signed (c.Temp 3) (c.Const 1))) (c.Then c.Skip c.End))) (c.Then c.Break c.End)) c.End)) (c.Then (c.Return None) c.End)))))))) }) (s.Then 1 (s.Set ([]) ([])) s.NoBlock (s.Then 2 (s.Store 0 ([]) ([])) s.NoBlock (s.Then 3 (s.Load 0 ([]) ([])) s.NoBlock (s.Then 4 (s.Bounds 0 None ([])) s.NoBlock (s.Then 5 (s.Set ([]) ([])) s.NoBlock (s.Then 6 (s.Set ([]) ([])) s.NoBlock (s.Then 7 (s.Set ([]) ([])) s.NoBlock (s.Then 8 (s.While (record { opened = (sort.Int ∷ sort.Int ∷ []); facts = ((Rel relation.Le (Number (pos 0)) (Var 0 sort.Int)) ∷ (Rel relation.Le (Var 0 sort.Int) (Number (pos 1))) ∷ []); locals = ((name_s0, (Named name_w0)) ∷ (name_s, (Of unary.Vi (Number (pos 4)))) ∷ (name_t, (Of unary.Vi (Number (pos 1)))) ∷ (name_i, (Of unary.Vi (Var 0 sort.Int))) ∷ (name_x1, (Of unary.Vi (Var 1 sort.Int))) ∷ []); items = ((Data (Number (pos 64)) (Named name_w0) (Of2 binary.Cons (Of unary.Vi (Number (pos 1))) (Of2 binary.Cons (Named name_q0) (Of2 binary.Cons (Of unary.Vi (Number (pos 3))) Nil)))) ∷ []) }) (record { opened = (sort.Int ∷ sort.Int ∷ []); facts = ((Rel relation.Le (Number (pos 0)) (Var 0 sort.Int)) ∷ (Rel relation.Le (Var 0 sort.Int) (Number (pos 1))) ∷ (Rel relation.Le (Number (pos 1)) (Var 0 sort.Int)) ∷ []); locals = ((name_s0, (Named name_w0)) ∷ (name_s, (Of unary.Vi (Number (pos 4)))) ∷ (name_t, (Of unary.Vi (Number (pos 1)))) ∷ (name_i, (Of unary.Vi (Var 0 sort.Int))) ∷ (name_x1, (Of unary.Vi (Var 1 sort.Int))) ∷ []); items = ((Data (Number (pos 64)) (Named name_w0) (Of2 binary.Cons (Of unary.Vi (Number (pos 1))) (Of2 binary.Cons (Named name_q0) (Of2 binary.Cons (Of unary.Vi (Number (pos 3))) Nil)))) ∷ []) }) (name_k3 ∷ name_k4 ∷ []) ([]) (name_k1 ∷ name_k2 ∷ [])) (s.WithBlock (s.Then 9 (s.Meet ((Number (pos 0)) ∷ (Number (pos 0)) ∷ []) ([])) s.NoBlock s.End) (s.WithBlock (s.Then 10 (s.If ([]) ((record { lines = ((line.Comb (((pos 1), 4) ∷ ((pos 1), 6) ∷ [])) ∷ []) }) ∷ (record { lines = ((line.Comb (((pos 1), 5) ∷ ((pos 1), 6) ∷ [])) ∷ []) }) ∷ []) ([]) ([])) (s.WithBlock (s.Then 11 (s.Naming name_k5 (Of unary.Vi (Number (pos 4)))) s.NoBlock (s.Then 12 (s.Set ([]) ([])) s.NoBlock (s.Then 13 (s.Subst name_k5) s.NoBlock (s.Then 14 (s.Set ([]) ((record { lines = ((line.Comb (((pos 1), 4) ∷ ((pos 1), 7) ∷ [])) ∷ []) }) ∷ (record { lines = ((line.Comb (((pos 1), 5) ∷ ((pos 1), 7) ∷ [])) ∷ []) }) ∷ (record { lines = ((line.Comb (((pos 1), 4) ∷ ((pos 1), 7) ∷ [])) ∷ []) }) ∷ (record { lines = ((line.Comb (((pos 1), 5) ∷ ((pos 1), 7) ∷ [])) ∷ []) }) ∷ [])) s.NoBlock (s.Then 15 s.Skip s.NoBlock (s.Then 16 (s.Fall ((Of2 binary.Add (Named name_k1) (Number (pos 1))) ∷ (Of2 binary.Add (Named name_k2) (Number (pos 2))) ∷ []) ((record { lines = ((line.Comb (((pos 1), 4) ∷ ((pos 31), 7) ∷ [])) ∷ []) }) ∷ [])) s.NoBlock s.End)))))) (s.WithBlock (s.Then 17 (s.Break ((Named name_k1) ∷ (Named name_k2) ∷ []) ([])) s.NoBlock s.End) s.NoBlock)) s.End) s.NoBlock)) (s.Then 18 (s.Return ((Of2 binary.Cons (Of unary.Vi (Number (pos 1))) (Of2 binary.Cons (Named name_q0) (Of2 binary.Cons (Of unary.Vi (Number (pos 3))) Nil))) ∷ []) ([]) ([])) s.NoBlock s.End))))))))) ≡ (RefusedAt 16 10 3)
unfolding computing
random_252 = refl

random_253 : body_verdict (record { predicates = ([]); specs = ((record { is_void = true; name = name_f; params = (name_s0 ∷ []); vars = ((name_w0, sort.Val) ∷ (name_h0, sort.Int) ∷ (name_q0, sort.Val) ∷ []); pre = (record { opened = []; facts = ((Rel relation.Le (Number (pos 0)) (Var 1 sort.Int)) ∷ (Rel relation.Le (Var 1 sort.Int) (Number (pos 20))) ∷ []); locals = ((name_s0, (Var 0 sort.Val)) ∷ []); items = ((Data (Number (pos 64)) (Var 0 sort.Val) (Of2 binary.Cons (Of unary.Vi (Var 1 sort.Int)) (Of2 binary.Cons (Var 2 sort.Val) (Of2 binary.Cons (Of unary.Vi (Number (pos 3))) Nil)))) ∷ []) }); post = (record { opened = (sort.List ∷ []); facts = ([]); locals = []; items = ((Data (Number (pos 64)) (Var 0 sort.Val) (Var 4 sort.List)) ∷ []) }) }) ∷ (record { is_void = false; name = name_main; params = ([]); vars = []; pre = (record { opened = []; facts = ([]); locals = []; items = ([]) }); post = (record { opened = []; facts = ((Rel relation.Eq (Var 0 sort.Val) (Of unary.Vi (Number (pos 0)))) ∷ []); locals = []; items = ([]) }) }) ∷ []) }) (record { is_void = false; name = name_main; params = ([]); vars = []; pre = (record { opened = []; facts = ([]); locals = []; items = ([]) }); post = (record { opened = []; facts = ((Rel relation.Eq (Var 0 sort.Val) (Of unary.Vi (Number (pos 0)))) ∷ []); locals = []; items = ([]) }) }) (record { temps = ([]); body = (c.Then (c.Return (Some (c.Const 0))) c.End) }) (s.Then 1 (s.Meet ([]) ([])) s.NoBlock s.End) ≡ (RefusedAt 1 37 1)
unfolding computing
random_253 = refl

random_254 : body_verdict (record { predicates = ([]); specs = ((record { is_void = true; name = name_f; params = (name_s0 ∷ []); vars = ((name_w0, sort.Val) ∷ (name_h0, sort.Int) ∷ (name_q0, sort.Val) ∷ []); pre = (record { opened = []; facts = ((Rel relation.Le (Number (pos 0)) (Var 1 sort.Int)) ∷ (Rel relation.Le (Var 1 sort.Int) (Number (pos 20))) ∷ []); locals = ((name_s0, (Var 0 sort.Val)) ∷ []); items = ((Data (Number (pos 64)) (Var 0 sort.Val) (Of2 binary.Cons (Of unary.Vi (Var 1 sort.Int)) (Of2 binary.Cons (Var 2 sort.Val) (Of2 binary.Cons (Of unary.Vi (Number (pos 3))) Nil)))) ∷ []) }); post = (record { opened = (sort.List ∷ []); facts = ([]); locals = []; items = ((Data (Number (pos 64)) (Var 0 sort.Val) (Var 4 sort.List)) ∷ []) }) }) ∷ (record { is_void = false; name = name_main; params = ([]); vars = []; pre = (record { opened = []; facts = ([]); locals = []; items = ([]) }); post = (record { opened = []; facts = ((Rel relation.Eq (Var 0 sort.Val) (Of unary.Vi (Number (pos 0)))) ∷ []); locals = []; items = ([]) }) }) ∷ []) }) (record { is_void = false; name = name_main; params = ([]); vars = []; pre = (record { opened = []; facts = ([]); locals = []; items = ([]) }); post = (record { opened = []; facts = ((Rel relation.Eq (Var 0 sort.Val) (Of unary.Vi (Number (pos 0)))) ∷ []); locals = []; items = ([]) }) }) (record { temps = ([]); body = (c.Then (c.Return (Some (c.Const 63))) c.End) }) (s.Then 1 (s.Return ([]) ([]) ([])) s.NoBlock s.End) ≡ (RefusedAt 1 9 3)
unfolding computing
random_254 = refl

random_255 : body_verdict (record { predicates = ([]); specs = ((record { is_void = false; name = name_pos; params = (name_n ∷ []); vars = ((name_a, sort.Int) ∷ []); pre = (record { opened = []; facts = ((Rel relation.Le (Number (pos 0)) (Var 0 sort.Int)) ∷ (Rel relation.Le (Var 0 sort.Int) (Number (pos 100))) ∷ []); locals = ((name_n, (Of unary.Vi (Var 0 sort.Int))) ∷ []); items = ([]) }); post = (record { opened = (sort.Int ∷ []); facts = ((Rel relation.Eq (Var 1 sort.Val) (Of unary.Vi (Var 2 sort.Int))) ∷ (Rel relation.Le (Number (pos 0)) (Var 2 sort.Int)) ∷ (Rel relation.Le (Var 2 sort.Int) (Var 0 sort.Int)) ∷ []); locals = []; items = ([]) }) }) ∷ (record { is_void = false; name = name_f; params = (name_n0 ∷ name_u1 ∷ name_n2 ∷ []); vars = ((name_a0, sort.Int) ∷ (name_b1, sort.Int) ∷ (name_a2, sort.Int) ∷ []); pre = (record { opened = []; facts = ((Rel relation.Le (Number (pos 0)) (Var 1 sort.Int)) ∷ (Rel relation.Le (Var 1 sort.Int) (Number (pos 31))) ∷ (Rel relation.Le (Number (pos 0)) (Var 2 sort.Int)) ∷ (Rel relation.Le (Var 2 sort.Int) (Number (pos 9))) ∷ []); locals = ((name_n0, (Of unary.Vi (Var 0 sort.Int))) ∷ (name_u1, (Of unary.Vi (Var 1 sort.Int))) ∷ (name_n2, (Of unary.Vi (Var 2 sort.Int))) ∷ []); items = ([]) }); post = (record { opened = []; facts = ([]); locals = []; items = ([]) }) }) ∷ (record { is_void = false; name = name_main; params = ([]); vars = []; pre = (record { opened = []; facts = ([]); locals = []; items = ([]) }); post = (record { opened = []; facts = ((Rel relation.Eq (Var 0 sort.Val) (Of unary.Vi (Number (pos 0)))) ∷ []); locals = []; items = ([]) }) }) ∷ []) }) (record { is_void = false; name = name_f; params = (name_n0 ∷ name_u1 ∷ name_n2 ∷ []); vars = ((name_a0, sort.Int) ∷ (name_b1, sort.Int) ∷ (name_a2, sort.Int) ∷ []); pre = (record { opened = []; facts = ((Rel relation.Le (Number (pos 0)) (Var 1 sort.Int)) ∷ (Rel relation.Le (Var 1 sort.Int) (Number (pos 31))) ∷ (Rel relation.Le (Number (pos 0)) (Var 2 sort.Int)) ∷ (Rel relation.Le (Var 2 sort.Int) (Number (pos 9))) ∷ []); locals = ((name_n0, (Of unary.Vi (Var 0 sort.Int))) ∷ (name_u1, (Of unary.Vi (Var 1 sort.Int))) ∷ (name_n2, (Of unary.Vi (Var 2 sort.Int))) ∷ []); items = ([]) }); post = (record { opened = []; facts = ([]); locals = []; items = ([]) }) }) (record { temps = (name_n0 ∷ name_u1 ∷ name_n2 ∷ name_s ∷ name_t ∷ name_i ∷ name_x1 ∷ name_d0 ∷ name_p1 ∷ name_q1 ∷ []); body = (c.Then (c.Set 3 (c.Const 3)) (c.Then (c.Set 4 (c.Const 0)) (c.Then (c.Malloc 8 3) (c.Then (c.If (c.Pointers (c.Temp 8) (c.Const 0) true) (c.Then (c.Return (Some (c.Const 0))) c.End) c.End) (c.Then (c.Store (root.Temp 8) (c.Offset 0 c.Here) (c.Const 3)) (c.Then (c.Load 4 (root.Temp 8) (c.Offset 0 c.Here)) (c.Then (c.Free (c.Temp 8)) (c.Then (c.Set 3 (c.Binary two.Add kind.Signed (c.Temp 4) (c.Const 1))) (c.Then (c.Set 3 (c.Binary two.Div kind.Signed (c.Temp 4) (c.Const 3))) (c.Then (c.Malloc 8 3) (c.Then (c.If (c.Pointers (c.Temp 8) (c.Const 0) true) (c.Then (c.Return (Some (c.Const 0))) c.End) c.End) (c.Then (c.Store (root.Temp 8) (c.Offset 0 c.Here) (c.Const 3)) (c.Then (c.Load 4 (root.Temp 8) (c.Offset 0 c.Here)) (c.Then (c.Free (c.Temp 8)) (c.Then (c.Set 3 (c.Binary two.Div kind.Signed (c.Temp 3) (c.Const 1))) (c.Then (c.Call (Some 4) name_pos ((c.Const 3) ∷ [])) (c.Then (c.Return (Some (c.Const 0))) c.End))))))))))))))))) }) (s.Then 1 (s.Set ([]) ([])) s.NoBlock (s.Then 2 (s.Set ([]) ([])) s.NoBlock (s.Then 3 (s.Malloc name_k1 ([]) ([])) (s.WithBlock (s.Then 4 (s.If ([]) ([]) ([]) ([])) (s.WithBlock (s.Then 5 (s.Return ([]) ([]) ([])) s.NoBlock s.End) (s.WithBlock (s.Then 6 (s.Absurd ([])) s.NoBlock s.End) s.NoBlock)) s.End) (s.WithBlock (s.Then 7 (s.If (0 ∷ []) ([]) ([]) ([])) (s.WithBlock (s.Then 8 (s.Return ([]) ([]) ([])) s.NoBlock s.End) (s.WithBlock (s.Then 9 (s.Store 0 ([]) ([])) s.NoBlock (s.Then 10 (s.Load 0 ([]) ([])) s.NoBlock (s.Then 11 (s.Free 0 1 ([])) s.NoBlock (s.Then 12 (s.Set ([]) ([])) s.NoBlock (s.Then 13 (s.Set ([]) ([])) s.NoBlock (s.Then 14 (s.Malloc name_k2 ([]) ([])) (s.WithBlock (s.Then 15 (s.If ([]) ([]) ([]) ([])) (s.WithBlock (s.Then 16 (s.Return ([]) ([]) ([])) s.NoBlock s.End) (s.WithBlock (s.Then 17 (s.Absurd ([])) s.NoBlock s.End) s.NoBlock)) s.End) (s.WithBlock (s.Then 18 (s.If (0 ∷ []) ([]) ([]) ([])) (s.WithBlock (s.Then 19 (s.Subst name_k2) s.NoBlock (s.Then 20 (s.Absurd ([])) s.NoBlock s.End)) (s.WithBlock (s.Then 21 (s.Store 0 ([]) ([])) s.NoBlock (s.Then 22 (s.Load 0 ([]) ([])) s.NoBlock (s.Then 23 (s.Free 0 1 ([])) s.NoBlock (s.Then 24 (s.Set ([]) ([])) s.NoBlock (s.Then 25 (s.Call ((Number (pos 3)) ∷ []) ([]) ([]) (name_k3 ∷ name_k4 ∷ [])) s.NoBlock (s.Then 26 (s.Return ([]) ([]) ([])) s.NoBlock s.End)))))) s.NoBlock)) s.End) s.NoBlock)) s.End)))))) s.NoBlock)) s.End) s.NoBlock)) s.End))) ≡ (RefusedAt 8 9 5)
unfolding computing
random_255 = refl

random_256 : body_verdict (record { predicates = ([]); specs = ((record { is_void = false; name = name_pos; params = (name_n ∷ []); vars = ((name_a, sort.Int) ∷ []); pre = (record { opened = []; facts = ((Rel relation.Le (Number (pos 0)) (Var 0 sort.Int)) ∷ (Rel relation.Le (Var 0 sort.Int) (Number (pos 100))) ∷ []); locals = ((name_n, (Of unary.Vi (Var 0 sort.Int))) ∷ []); items = ([]) }); post = (record { opened = (sort.Int ∷ []); facts = ((Rel relation.Eq (Var 1 sort.Val) (Of unary.Vi (Var 2 sort.Int))) ∷ (Rel relation.Le (Number (pos 0)) (Var 2 sort.Int)) ∷ (Rel relation.Le (Var 2 sort.Int) (Var 0 sort.Int)) ∷ []); locals = []; items = ([]) }) }) ∷ (record { is_void = false; name = name_f; params = (name_n0 ∷ name_u1 ∷ name_n2 ∷ []); vars = ((name_a0, sort.Int) ∷ (name_b1, sort.Int) ∷ (name_a2, sort.Int) ∷ []); pre = (record { opened = []; facts = ((Rel relation.Le (Number (pos 0)) (Var 1 sort.Int)) ∷ (Rel relation.Le (Var 1 sort.Int) (Number (pos 31))) ∷ (Rel relation.Le (Number (pos 0)) (Var 2 sort.Int)) ∷ (Rel relation.Le (Var 2 sort.Int) (Number (pos 9))) ∷ []); locals = ((name_n0, (Of unary.Vi (Var 0 sort.Int))) ∷ (name_u1, (Of unary.Vi (Var 1 sort.Int))) ∷ (name_n2, (Of unary.Vi (Var 2 sort.Int))) ∷ []); items = ([]) }); post = (record { opened = []; facts = ([]); locals = []; items = ([]) }) }) ∷ (record { is_void = false; name = name_main; params = ([]); vars = []; pre = (record { opened = []; facts = ([]); locals = []; items = ([]) }); post = (record { opened = []; facts = ((Rel relation.Eq (Var 0 sort.Val) (Of unary.Vi (Number (pos 0)))) ∷ []); locals = []; items = ([]) }) }) ∷ []) }) (record { is_void = false; name = name_f; params = (name_n0 ∷ name_u1 ∷ name_n2 ∷ []); vars = ((name_a0, sort.Int) ∷ (name_b1, sort.Int) ∷ (name_a2, sort.Int) ∷ []); pre = (record { opened = []; facts = ((Rel relation.Le (Number (pos 0)) (Var 1 sort.Int)) ∷ (Rel relation.Le (Var 1 sort.Int) (Number (pos 31))) ∷ (Rel relation.Le (Number (pos 0)) (Var 2 sort.Int)) ∷ (Rel relation.Le (Var 2 sort.Int) (Number (pos 9))) ∷ []); locals = ((name_n0, (Of unary.Vi (Var 0 sort.Int))) ∷ (name_u1, (Of unary.Vi (Var 1 sort.Int))) ∷ (name_n2, (Of unary.Vi (Var 2 sort.Int))) ∷ []); items = ([]) }); post = (record { opened = []; facts = ([]); locals = []; items = ([]) }) }) (record { temps = (name_n0 ∷ name_u1 ∷ name_n2 ∷ name_s ∷ name_t ∷ name_i ∷ name_x1 ∷ name_d0 ∷ name_p1 ∷ name_q1 ∷ []); body = (c.Then (c.Set 3 (c.Const 3)) (c.Then (c.Set 4 (c.Const 0)) (c.Then (c.Malloc 8 3) (c.Then (c.If (c.Pointers (c.Temp 8) (c.Const 0) true) (c.Then (c.Return (Some (c.Const 0))) c.End) c.End) (c.Then (c.Store (root.Temp 8) (c.Offset 0 c.Here) (c.Const 3)) (c.Then (c.Load 4 (root.Temp 8) (c.Offset 0 c.Here)) (c.Then (c.Free (c.Temp 8)) (c.Then (c.Set 3 (c.Binary two.Add kind.Signed (c.Temp 4) (c.Const 1))) (c.Then (c.Set 3 (c.Binary two.Div kind.Signed (c.Temp 4) (c.Const 3))) (c.Then (c.Malloc 8 3) (c.Then (c.If (c.Pointers (c.Temp 8) (c.Const 0) true) (c.Then (c.Return (Some (c.Const 0))) c.End) c.End) (c.Then (c.Store (root.Temp 8) (c.Offset 0 c.Here) (c.Const 3)) (c.Then (c.Load 4 (root.Temp 8) (c.Offset 0 c.Here)) (c.Then (c.Free (c.Temp 8)) (c.Then (c.Set 3 (c.Binary two.Div kind.Signed (c.Temp 3) (c.Const 1))) (c.Then (c.Call (Some 4) name_pos ((c.Const 3) ∷ [])) (c.Then (c.Return (Some (c.Const 0))) c.End))))))))))))))))) }) (s.Then 1 (s.Set ([]) ([])) s.NoBlock (s.Then 2 (s.Malloc name_k1 ([]) ([])) (s.WithBlock (s.Then 3 (s.If ([]) ([]) ([]) ([])) (s.WithBlock (s.Then 4 (s.Return ([]) ([]) ([])) s.NoBlock s.End) (s.WithBlock (s.Then 5 (s.Absurd ([])) s.NoBlock s.End) s.NoBlock)) s.End) (s.WithBlock (s.Then 6 (s.If (0 ∷ []) ([]) ([]) ([])) (s.WithBlock (s.Then 7 (s.Return ([]) ([]) ([])) s.NoBlock s.End) (s.WithBlock (s.Then 8 (s.Store 0 ([]) ([])) s.NoBlock (s.Then 9 (s.Load 0 ([]) ([])) s.NoBlock (s.Then 10 (s.Free 0 1 ([])) s.NoBlock (s.Then 11 (s.Set ([]) ([])) s.NoBlock (s.Then 12 (s.Set ([]) ([])) s.NoBlock (s.Then 13 (s.Malloc name_k2 ([]) ([])) (s.WithBlock (s.Then 14 (s.If ([]) ([]) ([]) ([])) (s.WithBlock (s.Then 15 (s.Return ([]) ([]) ([])) s.NoBlock s.End) (s.WithBlock (s.Then 16 (s.Absurd ([])) s.NoBlock s.End) s.NoBlock)) s.End) (s.WithBlock (s.Then 17 (s.If (0 ∷ []) ([]) ([]) ([])) (s.WithBlock (s.Then 18 (s.Subst name_k2) s.NoBlock (s.Then 19 (s.Absurd ([])) s.NoBlock s.End)) (s.WithBlock (s.Then 20 (s.Store 0 ([]) ([])) s.NoBlock (s.Then 21 (s.Load 0 ([]) ([])) s.NoBlock (s.Then 22 (s.Free 0 1 ([])) s.NoBlock (s.Then 23 (s.Set ([]) ([])) s.NoBlock (s.Then 24 (s.Call ((Number (pos 3)) ∷ []) ([]) ([]) (name_k3 ∷ name_k4 ∷ [])) s.NoBlock (s.Then 25 (s.Return ([]) ([]) ([])) s.NoBlock s.End)))))) s.NoBlock)) s.End) s.NoBlock)) s.End)))))) s.NoBlock)) s.End) s.NoBlock)) s.End)) ≡ (RefusedAt 2 14 1)
unfolding computing
random_256 = refl

random_257 : body_verdict (record { predicates = ([]); specs = ((record { is_void = false; name = name_pos; params = (name_n ∷ []); vars = ((name_a, sort.Int) ∷ []); pre = (record { opened = []; facts = ((Rel relation.Le (Number (pos 0)) (Var 0 sort.Int)) ∷ (Rel relation.Le (Var 0 sort.Int) (Number (pos 100))) ∷ []); locals = ((name_n, (Of unary.Vi (Var 0 sort.Int))) ∷ []); items = ([]) }); post = (record { opened = (sort.Int ∷ []); facts = ((Rel relation.Eq (Var 1 sort.Val) (Of unary.Vi (Var 2 sort.Int))) ∷ (Rel relation.Le (Number (pos 0)) (Var 2 sort.Int)) ∷ (Rel relation.Le (Var 2 sort.Int) (Var 0 sort.Int)) ∷ []); locals = []; items = ([]) }) }) ∷ (record { is_void = false; name = name_f; params = (name_n0 ∷ name_u1 ∷ name_n2 ∷ []); vars = ((name_a0, sort.Int) ∷ (name_b1, sort.Int) ∷ (name_a2, sort.Int) ∷ []); pre = (record { opened = []; facts = ((Rel relation.Le (Number (pos 0)) (Var 1 sort.Int)) ∷ (Rel relation.Le (Var 1 sort.Int) (Number (pos 31))) ∷ (Rel relation.Le (Number (pos 0)) (Var 2 sort.Int)) ∷ (Rel relation.Le (Var 2 sort.Int) (Number (pos 9))) ∷ []); locals = ((name_n0, (Of unary.Vi (Var 0 sort.Int))) ∷ (name_u1, (Of unary.Vi (Var 1 sort.Int))) ∷ (name_n2, (Of unary.Vi (Var 2 sort.Int))) ∷ []); items = ([]) }); post = (record { opened = []; facts = ([]); locals = []; items = ([]) }) }) ∷ (record { is_void = false; name = name_main; params = ([]); vars = []; pre = (record { opened = []; facts = ([]); locals = []; items = ([]) }); post = (record { opened = []; facts = ((Rel relation.Eq (Var 0 sort.Val) (Of unary.Vi (Number (pos 0)))) ∷ []); locals = []; items = ([]) }) }) ∷ []) }) (record { is_void = false; name = name_f; params = (name_n0 ∷ name_u1 ∷ name_n2 ∷ []); vars = ((name_a0, sort.Int) ∷ (name_b1, sort.Int) ∷ (name_a2, sort.Int) ∷ []); pre = (record { opened = []; facts = ((Rel relation.Le (Number (pos 0)) (Var 1 sort.Int)) ∷ (Rel relation.Le (Var 1 sort.Int) (Number (pos 31))) ∷ (Rel relation.Le (Number (pos 0)) (Var 2 sort.Int)) ∷ (Rel relation.Le (Var 2 sort.Int) (Number (pos 9))) ∷ []); locals = ((name_n0, (Of unary.Vi (Var 0 sort.Int))) ∷ (name_u1, (Of unary.Vi (Var 1 sort.Int))) ∷ (name_n2, (Of unary.Vi (Var 2 sort.Int))) ∷ []); items = ([]) }); post = (record { opened = []; facts = ([]); locals = []; items = ([]) }) }) (record { temps = (name_n0 ∷ name_u1 ∷ name_n2 ∷ name_s ∷ name_t ∷ name_i ∷ name_x1 ∷ name_d0 ∷ name_p1 ∷ name_q1 ∷ []); body = (c.Then (c.Set 3 (c.Const 3)) (c.Then (c.Set 4 (c.Const 0)) (c.Then (c.Malloc 8 3) (c.Then (c.If (c.Pointers (c.Temp 8) (c.Const 0) true) (c.Then (c.Return (Some (c.Const 0))) c.End) c.End) (c.Then (c.Store (root.Temp 8) (c.Offset 0 c.Here) (c.Const 3)) (c.Then (c.Load 4 (root.Temp 8) (c.Offset 0 c.Here)) (c.Then (c.Load 4 (root.Temp 8) (c.Offset 0 c.Here)) (c.Then (c.Free (c.Temp 8)) (c.Then (c.Set 3 (c.Binary two.Add kind.Signed (c.Temp 4) (c.Const 1))) (c.Then (c.Set 3 (c.Binary two.Div kind.Signed (c.Temp 4) (c.Const 3))) (c.Then (c.Malloc 8 3) (c.Then (c.If (c.Pointers (c.Temp 8) (c.Const 0) true) (c.Then (c.Return (Some (c.Const 0))) c.End) c.End) (c.Then (c.Store (root.Temp 8) (c.Offset 0 c.Here) (c.Const 3)) (c.Then (c.Load 4 (root.Temp 8) (c.Offset 0 c.Here)) (c.Then (c.Free (c.Temp 8)) (c.Then (c.Set 3 (c.Binary two.Div kind.Signed (c.Temp 3) (c.Const 1))) (c.Then (c.Call (Some 4) name_pos ((c.Const 3) ∷ [])) (c.Then (c.Return (Some (c.Const 0))) c.End)))))))))))))))))) }) (s.Then 1 (s.Set ([]) ([])) s.NoBlock (s.Then 2 (s.Set ([]) ([])) s.NoBlock (s.Then 3 (s.Malloc name_k1 ([]) ([])) (s.WithBlock (s.Then 4 (s.If ([]) ([]) ([]) ([])) (s.WithBlock (s.Then 5 (s.Return ([]) ([]) ([])) s.NoBlock s.End) (s.WithBlock (s.Then 6 (s.Absurd ([])) s.NoBlock s.End) s.NoBlock)) s.End) (s.WithBlock (s.Then 7 (s.If (0 ∷ []) ([]) ([]) ([])) (s.WithBlock (s.Then 8 (s.Return ([]) ([]) ([])) s.NoBlock s.End) (s.WithBlock (s.Then 9 (s.Store 0 ([]) ([])) s.NoBlock (s.Then 10 (s.Load 0 ([]) ([])) s.NoBlock (s.Then 11 (s.Free 0 1 ([])) s.NoBlock (s.Then 12 (s.Set ([]) ([])) s.NoBlock (s.Then 13 (s.Set ([]) ([])) s.NoBlock (s.Then 14 (s.Malloc name_k2 ([]) ([])) (s.WithBlock (s.Then 15 (s.If ([]) ([]) ([]) ([])) (s.WithBlock (s.Then 16 (s.Return ([]) ([]) ([])) s.NoBlock s.End) (s.WithBlock (s.Then 17 (s.Absurd ([])) s.NoBlock s.End) s.NoBlock)) s.End) (s.WithBlock (s.Then 18 (s.If (0 ∷ []) ([]) ([]) ([])) (s.WithBlock (s.Then 19 (s.Subst name_k2) s.NoBlock (s.Then 20 (s.Absurd ([])) s.NoBlock s.End)) (s.WithBlock (s.Then 21 (s.Store 0 ([]) ([])) s.NoBlock (s.Then 22 (s.Load 0 ([]) ([])) s.NoBlock (s.Then 23 (s.Free 0 1 ([])) s.NoBlock (s.Then 24 (s.Set ([]) ([])) s.NoBlock (s.Then 25 (s.Call ((Number (pos 3)) ∷ []) ([]) ([]) (name_k3 ∷ name_k4 ∷ [])) s.NoBlock (s.Then 26 (s.Return ([]) ([]) ([])) s.NoBlock s.End)))))) s.NoBlock)) s.End) s.NoBlock)) s.End)))))) s.NoBlock)) s.End) s.NoBlock)) s.End))) ≡ (RefusedAt 8 9 5)
unfolding computing
random_257 = refl

random_258 : body_verdict (record { predicates = ([]); specs = ((record { is_void = false; name = name_pos; params = (name_n ∷ []); vars = ((name_a, sort.Int) ∷ []); pre = (record { opened = []; facts = ((Rel relation.Le (Number (pos 0)) (Var 0 sort.Int)) ∷ (Rel relation.Le (Var 0 sort.Int) (Number (pos 100))) ∷ []); locals = ((name_n, (Of unary.Vi (Var 0 sort.Int))) ∷ []); items = ([]) }); post = (record { opened = (sort.Int ∷ []); facts = ((Rel relation.Eq (Var 1 sort.Val) (Of unary.Vi (Var 2 sort.Int))) ∷ (Rel relation.Le (Number (pos 0)) (Var 2 sort.Int)) ∷ (Rel relation.Le (Var 2 sort.Int) (Var 0 sort.Int)) ∷ []); locals = []; items = ([]) }) }) ∷ (record { is_void = false; name = name_f; params = (name_n0 ∷ name_u1 ∷ name_n2 ∷ []); vars = ((name_a0, sort.Int) ∷ (name_b1, sort.Int) ∷ (name_a2, sort.Int) ∷ []); pre = (record { opened = []; facts = ((Rel relation.Le (Number (pos 0)) (Var 1 sort.Int)) ∷ (Rel relation.Le (Var 1 sort.Int) (Number (pos 31))) ∷ (Rel relation.Le (Number (pos 0)) (Var 2 sort.Int)) ∷ (Rel relation.Le (Var 2 sort.Int) (Number (pos 9))) ∷ []); locals = ((name_n0, (Of unary.Vi (Var 0 sort.Int))) ∷ (name_u1, (Of unary.Vi (Var 1 sort.Int))) ∷ (name_n2, (Of unary.Vi (Var 2 sort.Int))) ∷ []); items = ([]) }); post = (record { opened = []; facts = ([]); locals = []; items = ([]) }) }) ∷ (record { is_void = false; name = name_main; params = ([]); vars = []; pre = (record { opened = []; facts = ([]); locals = []; items = ([]) }); post = (record { opened = []; facts = ((Rel relation.Eq (Var 0 sort.Val) (Of unary.Vi (Number (pos 0)))) ∷ []); locals = []; items = ([]) }) }) ∷ []) }) (record { is_void = false; name = name_f; params = (name_n0 ∷ name_u1 ∷ name_n2 ∷ []); vars = ((name_a0, sort.Int) ∷ (name_b1, sort.Int) ∷ (name_a2, sort.Int) ∷ []); pre = (record { opened = []; facts = ((Rel relation.Le (Number (pos 0)) (Var 1 sort.Int)) ∷ (Rel relation.Le (Var 1 sort.Int) (Number (pos 31))) ∷ (Rel relation.Le (Number (pos 0)) (Var 2 sort.Int)) ∷ (Rel relation.Le (Var 2 sort.Int) (Number (pos 9))) ∷ []); locals = ((name_n0, (Of unary.Vi (Var 0 sort.Int))) ∷ (name_u1, (Of unary.Vi (Var 1 sort.Int))) ∷ (name_n2, (Of unary.Vi (Var 2 sort.Int))) ∷ []); items = ([]) }); post = (record { opened = []; facts = ([]); locals = []; items = ([]) }) }) (record { temps = (name_n0 ∷ name_u1 ∷ name_n2 ∷ name_s ∷ name_t ∷ name_i ∷ name_x1 ∷ name_d0 ∷ name_p1 ∷ name_q1 ∷ []); body = (c.Then (c.Set 3 (c.Const 3)) (c.Then (c.Set 4 (c.Const 0)) (c.Then (c.Malloc 8 3) (c.Then (c.If (c.Pointers (c.Temp 8) (c.Const 0) true) (c.Then (c.Return (Some (c.Const 0))) c.End) c.End) (c.Then (c.Store (root.Temp 8) (c.Offset 0 c.Here) (c.Const 3)) (c.Then (c.Load 4 (root.Temp 8) (c.Offset 0 c.Here)) (c.Then (c.Free (c.Temp 8)) (c.Then (c.Set 3 (c.Binary two.Add kind.Signed (c.Temp 4) (c.Const 1))) (c.Then (c.Set 3 (c.Binary two.Div kind.Signed (c.Temp 4) (c.Const 3))) (c.Then (c.Malloc 8 3) (c.Then (c.If (c.Pointers (c.Temp 8) (c.Const 0) true) (c.Then (c.Return (Some (c.Const 0))) c.End) c.End) (c.Then (c.Store (root.Temp 8) (c.Offset 0 c.Here) (c.Const 3)) (c.Then (c.Load 4 (root.Temp 8) (c.Offset 0 c.Here)) (c.Then (c.Free (c.Temp 8)) (c.Then (c.Set 3 (c.Binary two.Div kind.Signed (c.Temp 3) (c.Const 1))) (c.Then (c.Call (Some 4) name_pos ((c.Const 3) ∷ [])) (c.Then (c.Return (Some (c.Const 0))) c.End))))))))))))))))) }) (s.Then 1 (s.Set ([]) ([])) s.NoBlock (s.Then 2 (s.Set ([]) ([])) s.NoBlock (s.Then 3 (s.Malloc name_k1 ([]) ([])) (s.WithBlock (s.Then 4 (s.If ([]) ([]) ([]) ([])) (s.WithBlock (s.Then 5 (s.Return ([]) ([]) ([])) s.NoBlock s.End) (s.WithBlock (s.Then 6 (s.Absurd ([])) s.NoBlock s.End) s.NoBlock)) s.End) (s.WithBlock (s.Then 7 (s.If (0 ∷ []) ([]) ([]) ([])) (s.WithBlock (s.Then 8 (s.Return ([]) ([]) ([])) s.NoBlock s.End) (s.WithBlock (s.Then 9 (s.Store 0 ([]) ([])) s.NoBlock (s.Then 10 (s.Load 0 ([]) ([])) s.NoBlock (s.Then 11 (s.Free 0 1 ([])) s.NoBlock (s.Then 12 (s.Set ([]) ([])) s.NoBlock (s.Then 13 (s.Set ([]) ([])) s.NoBlock (s.Then 14 (s.Malloc name_k2 ([]) ([])) (s.WithBlock (s.Then 15 (s.If ([]) ([]) ([]) ([])) (s.WithBlock (s.Then 16 (s.Return ([]) ([]) ([])) s.NoBlock s.End) (s.WithBlock (s.Then 17 (s.Absurd ([])) s.NoBlock s.End) s.NoBlock)) s.End) (s.WithBlock (s.Then 18 (s.If (2 ∷ []) ([]) ([]) ([])) (s.WithBlock (s.Then 19 (s.Subst name_k2) s.NoBlock (s.Then 20 (s.Absurd ([])) s.NoBlock s.End)) (s.WithBlock (s.Then 21 (s.Store 0 ([]) ([])) s.NoBlock (s.Then 22 (s.Load 0 ([]) ([])) s.NoBlock (s.Then 23 (s.Free 0 1 ([])) s.NoBlock (s.Then 24 (s.Set ([]) ([])) s.NoBlock (s.Then 25 (s.Call ((Number (pos 3)) ∷ []) ([]) ([]) (name_k3 ∷ name_k4 ∷ [])) s.NoBlock (s.Then 26 (s.Return ([]) ([]) ([])) s.NoBlock s.End)))))) s.NoBlock)) s.End) s.NoBlock)) s.End)))))) s.NoBlock)) s.End) s.NoBlock)) s.End))) ≡ (RefusedAt 8 9 5)
unfolding computing
random_258 = refl

random_259 : body_verdict (record { predicates = ([]); specs = ((record { is_void = false; name = name_pos; params = (name_n ∷ []); vars = ((name_a, sort.Int) ∷ []); pre = (record { opened = []; facts = ((Rel relation.Le (Number (pos 0)) (Var 0 sort.Int)) ∷ (Rel relation.Le (Var 0 sort.Int) (Number (pos 100))) ∷ []); locals = ((name_n, (Of unary.Vi (Var 0 sort.Int))) ∷ []); items = ([]) }); post = (record { opened = (sort.Int ∷ []); facts = ((Rel relation.Eq (Var 1 sort.Val) (Of unary.Vi (Var 2 sort.Int))) ∷ (Rel relation.Le (Number (pos 0)) (Var 2 sort.Int)) ∷ (Rel relation.Le (Var 2 sort.Int) (Var 0 sort.Int)) ∷ []); locals = []; items = ([]) }) }) ∷ (record { is_void = false; name = name_f; params = (name_n0 ∷ name_u1 ∷ name_n2 ∷ []); vars = ((name_a0, sort.Int) ∷ (name_b1, sort.Int) ∷ (name_a2, sort.Int) ∷ []); pre = (record { opened = []; facts = ((Rel relation.Le (Number (pos 0)) (Var 1 sort.Int)) ∷ (Rel relation.Le (Var 1 sort.Int) (Number (pos 31))) ∷ (Rel relation.Le (Number (pos 0)) (Var 2 sort.Int)) ∷ (Rel relation.Le (Var 2 sort.Int) (Number (pos 9))) ∷ []); locals = ((name_n0, (Of unary.Vi (Var 0 sort.Int))) ∷ (name_u1, (Of unary.Vi (Var 1 sort.Int))) ∷ (name_n2, (Of unary.Vi (Var 2 sort.Int))) ∷ []); items = ([]) }); post = (record { opened = []; facts = ([]); locals = []; items = ([]) }) }) ∷ (record { is_void = false; name = name_main; params = ([]); vars = []; pre = (record { opened = []; facts = ([]); locals = []; items = ([]) }); post = (record { opened = []; facts = ((Rel relation.Eq (Var 0 sort.Val) (Of unary.Vi (Number (pos 0)))) ∷ []); locals = []; items = ([]) }) }) ∷ []) }) (record { is_void = false; name = name_f; params = (name_n0 ∷ name_u1 ∷ name_n2 ∷ []); vars = ((name_a0, sort.Int) ∷ (name_b1, sort.Int) ∷ (name_a2, sort.Int) ∷ []); pre = (record { opened = []; facts = ((Rel relation.Le (Number (pos 0)) (Var 1 sort.Int)) ∷ (Rel relation.Le (Var 1 sort.Int) (Number (pos 31))) ∷ (Rel relation.Le (Number (pos 0)) (Var 2 sort.Int)) ∷ (Rel relation.Le (Var 2 sort.Int) (Number (pos 9))) ∷ []); locals = ((name_n0, (Of unary.Vi (Var 0 sort.Int))) ∷ (name_u1, (Of unary.Vi (Var 1 sort.Int))) ∷ (name_n2, (Of unary.Vi (Var 2 sort.Int))) ∷ []); items = ([]) }); post = (record { opened = []; facts = ([]); locals = []; items = ([]) }) }) (record { temps = (name_n0 ∷ name_u1 ∷ name_n2 ∷ name_s ∷ name_t ∷ name_i ∷ name_x1 ∷ name_d0 ∷ name_p1 ∷ name_q1 ∷ []); body = (c.Then (c.Set 3 (c.Const 3)) (c.Then (c.Set 4 (c.Const 0)) (c.Then (c.Malloc 8 3) (c.Then (c.If (c.Pointers (c.Temp 8) (c.Const 0) true) (c.Then (c.Return (Some (c.Const 0))) c.End) c.End) (c.Then (c.Store (root.Temp 8) (c.Offset 0 c.Here) (c.Const 3)) (c.Then (c.Load 4 (root.Temp 8) (c.Offset 0 c.Here)) (c.Then (c.Free (c.Temp 8)) (c.Then (c.Set 3 (c.Binary two.Add kind.Signed (c.Temp 4) (c.Const 1))) (c.Then (c.Set 3 (c.Binary two.Div kind.Signed (c.Temp 4) (c.Const 3))) (c.Then (c.Malloc 8 3) (c.Then (c.If (c.Pointers (c.Temp 8) (c.Const 0) true) (c.Then (c.Return (Some (c.Const 0))) c.End) c.End) (c.Then (c.Store (root.Temp 8) (c.Offset 0 c.Here) (c.Const 3)) (c.Then (c.Load 4 (root.Temp 8) (c.Offset 0 c.Here)) (c.Then (c.Free (c.Temp 8)) (c.Then (c.Set 3 (c.Binary two.Div kind.Signed (c.Temp 3) (c.Const 1))) (c.Then (c.Call (Some 4) name_pos ((c.Const 3) ∷ [])) (c.Then (c.Return (Some (c.Const 0))) c.End))))))))))))))))) }) (s.Then 1 (s.Set ([]) ([])) s.NoBlock (s.Then 2 (s.Set ([]) ([])) s.NoBlock (s.Then 3 (s.Malloc name_k1 ([]) ([])) (s.WithBlock (s.Then 4 (s.If ([]) ([]) ([]) ([])) (s.WithBlock (s.Then 5 (s.Return ([]) ([]) ([])) s.NoBlock s.End) (s.WithBlock (s.Then 6 (s.Absurd ([])) s.NoBlock s.End) s.NoBlock)) s.End) (s.WithBlock (s.Then 7 (s.If (0 ∷ []) ([]) ([]) ([])) (s.WithBlock (s.Then 8 (s.Return ([]) ([]) ([])) s.NoBlock s.End) (s.WithBlock (s.Then 9 (s.Store 0 ([]) ([])) s.NoBlock (s.Then 10 (s.Load 0 ([]) ([])) s.NoBlock (s.Then 11 (s.Free 0 1 ([])) s.NoBlock (s.Then 12 (s.Set ([]) ([])) s.NoBlock (s.Then 13 (s.Free 0 1 ([])) s.NoBlock (s.Then 14 (s.Malloc name_k2 ([]) ([])) (s.WithBlock (s.Then 15 (s.If ([]) ([]) ([]) ([])) (s.WithBlock (s.Then 16 (s.Return ([]) ([]) ([])) s.NoBlock s.End) (s.WithBlock (s.Then 17 (s.Absurd ([])) s.NoBlock s.End) s.NoBlock)) s.End) (s.WithBlock (s.Then 18 (s.If (0 ∷ []) ([]) ([]) ([])) (s.WithBlock (s.Then 19 (s.Subst name_k2) s.NoBlock (s.Then 20 (s.Absurd ([])) s.NoBlock s.End)) (s.WithBlock (s.Then 21 (s.Store 0 ([]) ([])) s.NoBlock (s.Then 22 (s.Load 0 ([]) ([])) s.NoBlock (s.Then 23 (s.Free 0 1 ([])) s.NoBlock (s.Then 24 (s.Set ([]) ([])) s.NoBlock (s.Then 25 (s.Call ((Number (pos 3)) ∷ []) ([]) ([]) (name_k3 ∷ name_k4 ∷ [])) s.NoBlock (s.Then 26 (s.Return ([]) ([]) ([])) s.NoBlock s.End)))))) s.NoBlock)) s.End) s.NoBlock)) s.End)))))) s.NoBlock)) s.End) s.NoBlock)) s.End))) ≡ (RefusedAt 8 9 5)
unfolding computing
random_259 = refl

random_260 : body_verdict (record { predicates = ([]); specs = ((record { is_void = false; name = name_pos; params = (name_n ∷ []); vars = ((name_a, sort.Int) ∷ []); pre = (record { opened = []; facts = ((Rel relation.Le (Number (pos 0)) (Var 0 sort.Int)) ∷ (Rel relation.Le (Var 0 sort.Int) (Number (pos 100))) ∷ []); locals = ((name_n, (Of unary.Vi (Var 0 sort.Int))) ∷ []); items = ([]) }); post = (record { opened = (sort.Int ∷ []); facts = ((Rel relation.Eq (Var 1 sort.Val) (Of unary.Vi (Var 2 sort.Int))) ∷ (Rel relation.Le (Number (pos 0)) (Var 2 sort.Int)) ∷ (Rel relation.Le (Var 2 sort.Int) (Var 0 sort.Int)) ∷ []); locals = []; items = ([]) }) }) ∷ (record { is_void = false; name = name_f; params = (name_n0 ∷ name_u1 ∷ name_n2 ∷ []); vars = ((name_a0, sort.Int) ∷ (name_b1, sort.Int) ∷ (name_a2, sort.Int) ∷ []); pre = (record { opened = []; facts = ((Rel relation.Le (Number (pos 0)) (Var 1 sort.Int)) ∷ (Rel relation.Le (Var 1 sort.Int) (Number (pos 31))) ∷ (Rel relation.Le (Number (pos 0)) (Var 2 sort.Int)) ∷ (Rel relation.Le (Var 2 sort.Int) (Number (pos 9))) ∷ []); locals = ((name_n0, (Of unary.Vi (Var 0 sort.Int))) ∷ (name_u1, (Of unary.Vi (Var 1 sort.Int))) ∷ (name_n2, (Of unary.Vi (Var 2 sort.Int))) ∷ []); items = ([]) }); post = (record { opened = []; facts = ([]); locals = []; items = ([]) }) }) ∷ (record { is_void = false; name = name_main; params = ([]); vars = []; pre = (record { opened = []; facts = ([]); locals = []; items = ([]) }); post = (record { opened = []; facts = ((Rel relation.Eq (Var 0 sort.Val) (Of unary.Vi (Number (pos 0)))) ∷ []); locals = []; items = ([]) }) }) ∷ []) }) (record { is_void = false; name = name_main; params = ([]); vars = []; pre = (record { opened = []; facts = ([]); locals = []; items = ([]) }); post = (record { opened = []; facts = ((Rel relation.Eq (Var 0 sort.Val) (Of unary.Vi (Number (pos 0)))) ∷ []); locals = []; items = ([]) }) }) (record { temps = ([]); body = (c.Then (c.Return (Some (c.Const 0))) c.End) }) (s.Then 1 (s.Return ([]) ([]) ([])) s.NoBlock (s.Then 2 (s.Return ([]) ([]) ([])) s.NoBlock s.End)) ≡ (RefusedAt 2 0 11)
unfolding computing
random_260 = refl

random_261 : body_verdict (record { predicates = ([]); specs = ((record { is_void = false; name = name_pos; params = (name_n ∷ []); vars = ((name_a, sort.Int) ∷ []); pre = (record { opened = []; facts = ((Rel relation.Le (Number (pos 0)) (Var 0 sort.Int)) ∷ (Rel relation.Le (Var 0 sort.Int) (Number (pos 100))) ∷ []); locals = ((name_n, (Of unary.Vi (Var 0 sort.Int))) ∷ []); items = ([]) }); post = (record { opened = (sort.Int ∷ []); facts = ((Rel relation.Eq (Var 1 sort.Val) (Of unary.Vi (Var 2 sort.Int))) ∷ (Rel relation.Le (Number (pos 0)) (Var 2 sort.Int)) ∷ (Rel relation.Le (Var 2 sort.Int) (Var 0 sort.Int)) ∷ []); locals = []; items = ([]) }) }) ∷ (record { is_void = false; name = name_f; params = (name_n0 ∷ name_u1 ∷ name_n2 ∷ []); vars = ((name_a0, sort.Int) ∷ (name_b1, sort.Int) ∷ (name_a2, sort.Int) ∷ []); pre = (record { opened = []; facts = ((Rel relation.Le (Number (pos 0)) (Var 1 sort.Int)) ∷ (Rel relation.Le (Var 1 sort.Int) (Number (pos 31))) ∷ (Rel relation.Le (Number (pos 0)) (Var 2 sort.Int)) ∷ (Rel relation.Le (Var 2 sort.Int) (Number (pos 9))) ∷ []); locals = ((name_n0, (Of unary.Vi (Var 0 sort.Int))) ∷ (name_u1, (Of unary.Vi (Var 1 sort.Int))) ∷ (name_n2, (Of unary.Vi (Var 2 sort.Int))) ∷ []); items = ([]) }); post = (record { opened = []; facts = ([]); locals = []; items = ([]) }) }) ∷ (record { is_void = false; name = name_main; params = ([]); vars = []; pre = (record { opened = []; facts = ([]); locals = []; items = ([]) }); post = (record { opened = []; facts = ((Rel relation.Eq (Var 0 sort.Val) (Of unary.Vi (Number (pos 0)))) ∷ []); locals = []; items = ([]) }) }) ∷ []) }) (record { is_void = false; name = name_f; params = (name_n0 ∷ name_u1 ∷ name_n2 ∷ []); vars = ((name_a0, sort.Int) ∷ (name_b1, sort.Int) ∷ (name_a2, sort.Int) ∷ []); pre = (record { opened = []; facts = ((Rel relation.Le (Number (pos 0)) (Var 1 sort.Int)) ∷ (Rel relation.Le (Var 1 sort.Int) (Number (pos 31))) ∷ (Rel relation.Le (Number (pos 0)) (Var 2 sort.Int)) ∷ (Rel relation.Le (Var 2 sort.Int) (Number (pos 9))) ∷ []); locals = ((name_n0, (Of unary.Vi (Var 0 sort.Int))) ∷ (name_u1, (Of unary.Vi (Var 1 sort.Int))) ∷ (name_n2, (Of unary.Vi (Var 2 sort.Int))) ∷ []); items = ([]) }); post = (record { opened = []; facts = ([]); locals = []; items = ([]) }) }) (record { temps = (name_n0 ∷ name_u1 ∷ name_n2 ∷ name_s ∷ name_t ∷ name_i ∷ name_x1 ∷ name_d0 ∷ name_p1 ∷ name_q1 ∷ []); body = (c.Then (c.Set 3 (c.Const 3)) (c.Then (c.Set 4 (c.Const 0)) (c.Then (c.Malloc 8 3) (c.Then (c.If (c.Pointers (c.Temp 8) (c.Const 0) true) (c.Then (c.Return (Some (c.Const 0))) c.End) c.End) (c.Then (c.Store (root.Temp 8) (c.Offset 0 c.Here) (c.Const 3)) (c.Then (c.Load 4 (root.Temp 8) (c.Offset 0 c.Here)) (c.Then (c.Free (c.Temp 8)) (c.Then (c.Set 3 (c.Binary two.Add kind.Signed (c.Temp 4) (c.Const 1))) (c.Then (c.Set 3 (c.Binary two.Div kind.Signed (c.Temp 4) (c.Const 3))) (c.Then (c.Malloc 8 3) (c.Then (c.If (c.Pointers (c.Temp 8) (c.Const 0) true) (c.Then (c.Return (Some (c.Const 0))) c.End) c.End) (c.Then (c.Store (root.Temp 8) (c.Offset 0 c.Here) (c.Const 3)) (c.Then (c.Load 4 (root.Temp 8) (c.Offset 0 c.Here)) (c.Then (c.Free (c.Temp 8)) (c.Then (c.Set 3 (c.Binary two.Div kind.Signed (c.Temp 3) (c.Const 1))) (c.Then (c.Call (Some 4) name_pos ((c.Const 3) ∷ [])) (c.Then (c.Return (Some (c.Const 0))) c.End))))))))))))))))) }) (s.Then 1 (s.Set ([]) ([])) s.NoBlock (s.Then 2 (s.Absurd ([])) s.NoBlock (s.Then 3 (s.Malloc name_k1 ([]) ([])) (s.WithBlock (s.Then 4 (s.If ([]) ([]) ([]) ([])) (s.WithBlock (s.Then 5 (s.Return ([]) ([]) ([])) s.NoBlock s.End) (s.WithBlock (s.Then 6 (s.Absurd ([])) s.NoBlock s.End) s.NoBlock)) s.End) (s.WithBlock (s.Then 7 (s.If (0 ∷ []) ([]) ([]) ([])) (s.WithBlock (s.Then 8 (s.Return ([]) ([]) ([])) s.NoBlock s.End) (s.WithBlock (s.Then 9 (s.Store 0 ([]) ([])) s.NoBlock (s.Then 10 (s.Load 0 ([]) ([])) s.NoBlock (s.Then 11 (s.Free 0 1 ([])) s.NoBlock (s.Then 12 (s.Set ([]) ([])) s.NoBlock (s.Then 13 (s.Set ([]) ([])) s.NoBlock (s.Then 14 (s.Malloc name_k2 ([]) ([])) (s.WithBlock (s.Then 15 (s.If ([]) ([]) ([]) ([])) (s.WithBlock (s.Then 16 (s.Return ([]) ([]) ([])) s.NoBlock s.End) (s.WithBlock (s.Then 17 (s.Absurd ([])) s.NoBlock s.End) s.NoBlock)) s.End) (s.WithBlock (s.Then 18 (s.If (0 ∷ []) ([]) ([]) ([])) (s.WithBlock (s.Then 19 (s.Subst name_k2) s.NoBlock (s.Then 20 (s.Absurd ([])) s.NoBlock s.End)) (s.WithBlock (s.Then 21 (s.Store 0 ([]) ([])) s.NoBlock (s.Then 22 (s.Load 0 ([]) ([])) s.NoBlock (s.Then 23 (s.Free 0 1 ([])) s.NoBlock (s.Then 24 (s.Set ([]) ([])) s.NoBlock (s.Then 25 (s.Call ((Number (pos 3)) ∷ []) ([]) ([]) (name_k3 ∷ name_k4 ∷ [])) s.NoBlock (s.Then 26 (s.Return ([]) ([]) ([])) s.NoBlock s.End)))))) s.NoBlock)) s.End) s.NoBlock)) s.End)))))) s.NoBlock)) s.End) s.NoBlock)) s.End))) ≡ (RefusedAt 2 24 3)
unfolding computing
random_261 = refl

random_262 : body_verdict (record { predicates = ([]); specs = ((record { is_void = false; name = name_pos; params = (name_n ∷ []); vars = ((name_a, sort.Int) ∷ []); pre = (record { opened = []; facts = ((Rel relation.Le (Number (pos 0)) (Var 0 sort.Int)) ∷ (Rel relation.Le (Var 0 sort.Int) (Number (pos 100))) ∷ []); locals = ((name_n, (Of unary.Vi (Var 0 sort.Int))) ∷ []); items = ([]) }); post = (record { opened = (sort.Int ∷ []); facts = ((Rel relation.Eq (Var 1 sort.Val) (Of unary.Vi (Var 2 sort.Int))) ∷ (Rel relation.Le (Number (pos 0)) (Var 2 sort.Int)) ∷ (Rel relation.Le (Var 2 sort.Int) (Var 0 sort.Int)) ∷ []); locals = []; items = ([]) }) }) ∷ (record { is_void = false; name = name_f; params = (name_n0 ∷ name_u1 ∷ name_n2 ∷ []); vars = ((name_a0, sort.Int) ∷ (name_b1, sort.Int) ∷ (name_a2, sort.Int) ∷ []); pre = (record { opened = []; facts = ((Rel relation.Le (Number (pos 0)) (Var 1 sort.Int)) ∷ (Rel relation.Le (Var 1 sort.Int) (Number (pos 31))) ∷ (Rel relation.Le (Number (pos 0)) (Var 2 sort.Int)) ∷ (Rel relation.Le (Var 2 sort.Int) (Number (pos 9))) ∷ []); locals = ((name_n0, (Of unary.Vi (Var 0 sort.Int))) ∷ (name_u1, (Of unary.Vi (Var 1 sort.Int))) ∷ (name_n2, (Of unary.Vi (Var 2 sort.Int))) ∷ []); items = ([]) }); post = (record { opened = []; facts = ([]); locals = []; items = ([]) }) }) ∷ (record { is_void = false; name = name_main; params = ([]); vars = []; pre = (record { opened = []; facts = ([]); locals = []; items = ([]) }); post = (record { opened = []; facts = ((Rel relation.Eq (Var 0 sort.Val) (Of unary.Vi (Number (pos 0)))) ∷ []); locals = []; items = ([]) }) }) ∷ []) }) (record { is_void = false; name = name_f; params = (name_n0 ∷ name_u1 ∷ name_n2 ∷ []); vars = ((name_a0, sort.Int) ∷ (name_b1, sort.Int) ∷ (name_a2, sort.Int) ∷ []); pre = (record { opened = []; facts = ((Rel relation.Le (Number (pos 0)) (Var 1 sort.Int)) ∷ (Rel relation.Le (Var 1 sort.Int) (Number (pos 31))) ∷ (Rel relation.Le (Number (pos 0)) (Var 2 sort.Int)) ∷ (Rel relation.Le (Var 2 sort.Int) (Number (pos 9))) ∷ []); locals = ((name_n0, (Of unary.Vi (Var 0 sort.Int))) ∷ (name_u1, (Of unary.Vi (Var 1 sort.Int))) ∷ (name_n2, (Of unary.Vi (Var 2 sort.Int))) ∷ []); items = ([]) }); post = (record { opened = []; facts = ([]); locals = []; items = ([]) }) }) (record { temps = (name_n0 ∷ name_u1 ∷ name_n2 ∷ name_s ∷ name_t ∷ name_i ∷ name_x1 ∷ name_d0 ∷ name_p1 ∷ name_q1 ∷ []); body = (c.Then (c.Set 3 (c.Const 3)) (c.Then (c.Set 4 (c.Const 0)) (c.Then (c.Malloc 8 3) (c.Then (c.If (c.Pointers (c.Temp 8) (c.Const 0) true) (c.Then (c.Return (Some (c.Const 0))) c.End) c.End) (c.Then (c.Store (root.Temp 8) (c.Offset 0 c.Here) (c.Const 3)) (c.Then (c.Load 4 (root.Temp 8) (c.Offset 0 c.Here)) (c.Then (c.Free (c.Temp 8)) (c.Then (c.Set 3 (c.Binary two.Add kind.Signed (c.Temp 4) (c.Const 1))) (c.Then (c.Set 3 (c.Binary two.Div kind.Signed (c.Temp 4) (c.Const 3))) (c.Then (c.Malloc 8 3) (c.Then (c.If (c.Pointers (c.Temp 8) (c.Const 0) true) (c.Then (c.Return (Some (c.Const 0))) c.End) c.End) (c.Then (c.Store (root.Temp 8) (c.Offset 0 c.Here) (c.Const 3)) (c.Then (c.Load 4 (root.Temp 8) (c.Offset 0 c.Here)) (c.Then (c.Free (c.Temp 8)) (c.Then (c.Set 3 (c.Binary two.Div kind.Signed (c.Temp 3) (c.Const 1))) (c.Then (c.Call (Some 4) name_pos ((c.Const 3) ∷ [])) (c.Then (c.Return (Some (c.Const 0))) c.End))))))))))))))))) }) (s.Then 1 (s.Set ([]) ([])) s.NoBlock (s.Then 2 (s.Set ([]) ([])) s.NoBlock (s.Then 3 (s.Malloc name_k1 ([]) ([])) (s.WithBlock (s.Then 4 (s.If ([]) ([]) ([]) ([])) (s.WithBlock (s.Then 5 (s.Return ([]) ([]) ([])) s.NoBlock s.End) (s.WithBlock (s.Then 6 (s.Absurd ([])) s.NoBlock s.End) s.NoBlock)) s.End) (s.WithBlock (s.Then 7 (s.If (0 ∷ []) ([]) ([]) ([])) (s.WithBlock (s.Then 8 (s.Return ([]) ([]) ([])) s.NoBlock s.End) (s.WithBlock (s.Then 9 (s.Store 0 ([]) ([])) s.NoBlock (s.Then 10 (s.Load 0 ([]) ([])) s.NoBlock (s.Then 11 (s.Free 0 1 ([])) s.NoBlock (s.Then 12 (s.Set ([]) ([])) s.NoBlock (s.Then 13 (s.Set ([]) ([])) s.NoBlock (s.Then 14 (s.Malloc name_k2 ([]) ([])) (s.WithBlock (s.Then 15 (s.If ([]) ([]) ([]) ([])) (s.WithBlock (s.Then 16 (s.Return ([]) ([]) ([])) s.NoBlock s.End) (s.WithBlock (s.Then 17 (s.Absurd ([])) s.NoBlock s.End) s.NoBlock)) s.End) (s.WithBlock (s.Then 18 (s.If (0 ∷ []) ([]) ([]) ([])) (s.WithBlock (s.Then 19 (s.Subst name_k2) s.NoBlock (s.Then 20 (s.Absurd ([])) s.NoBlock s.End)) (s.WithBlock (s.Then 21 (s.Store 0 ([]) ([])) s.NoBlock (s.Then 22 (s.Load 1 ([]) ([])) s.NoBlock (s.Then 23 (s.Free 0 1 ([])) s.NoBlock (s.Then 24 (s.Set ([]) ([])) s.NoBlock (s.Then 25 (s.Call ((Number (pos 3)) ∷ []) ([]) ([]) (name_k3 ∷ name_k4 ∷ [])) s.NoBlock (s.Then 26 (s.Return ([]) ([]) ([])) s.NoBlock s.End)))))) s.NoBlock)) s.End) s.NoBlock)) s.End)))))) s.NoBlock)) s.End) s.NoBlock)) s.End))) ≡ (RefusedAt 8 9 5)
unfolding computing
random_262 = refl

random_263 : body_verdict (record { predicates = ([]); specs = ((record { is_void = false; name = name_f; params = (name_n0 ∷ name_p10 ∷ []); vars = ((name_a0, sort.Int) ∷ (name_v1, sort.Val) ∷ (name_o1, sort.Int) ∷ []); pre = (record { opened = []; facts = ((Rel relation.Le (Number (pos 1)) (Var 0 sort.Int)) ∷ (Rel relation.Le (Var 0 sort.Int) (Number (pos 1000))) ∷ (Rel relation.Le (Number (pos 0)) (Var 2 sort.Int)) ∷ (Rel relation.Le (Var 2 sort.Int) (Number (pos 20))) ∷ []); locals = ((name_n0, (Of unary.Vi (Var 0 sort.Int))) ∷ (name_p10, (Var 1 sort.Val)) ∷ []); items = ((Data (Number (pos 64)) (Var 1 sort.Val) (Of2 binary.Cons (Of unary.Vi (Var 2 sort.Int)) Nil)) ∷ []) }); post = (record { opened = []; facts = ((Rel relation.Eq (Var 3 sort.Val) (Of unary.Vi (Number (pos 2)))) ∷ []); locals = []; items = ((Data (Number (pos 64)) (Var 1 sort.Val) (Of2 binary.Cons (Of unary.Vi (Number (pos 0))) Nil)) ∷ []) }) }) ∷ (record { is_void = false; name = name_main; params = ([]); vars = []; pre = (record { opened = []; facts = ([]); locals = []; items = ([]) }); post = (record { opened = []; facts = ((Rel relation.Eq (Var 0 sort.Val) (Of unary.Vi (Number (pos 0)))) ∷ []); locals = []; items = ([]) }) }) ∷ []) }) (record { is_void = false; name = name_f; params = (name_n0 ∷ name_p10 ∷ []); vars = ((name_a0, sort.Int) ∷ (name_v1, sort.Val) ∷ (name_o1, sort.Int) ∷ []); pre = (record { opened = []; facts = ((Rel relation.Le (Number (pos 1)) (Var 0 sort.Int)) ∷ (Rel relation.Le (Var 0 sort.Int) (Number (pos 1000))) ∷ (Rel relation.Le (Number (pos 0)) (Var 2 sort.Int)) ∷ (Rel relation.Le (Var 2 sort.Int) (Number (pos 20))) ∷ []); locals = ((name_n0, (Of unary.Vi (Var 0 sort.Int))) ∷ (name_p10, (Var 1 sort.Val)) ∷ []); items = ((Data (Number (pos 64)) (Var 1 sort.Val) (Of2 binary.Cons (Of unary.Vi (Var 2 sort.Int)) Nil)) ∷ []) }); post = (record { opened = []; facts = ((Rel relation.Eq (Var 3 sort.Val) (Of unary.Vi (Number (pos 2)))) ∷ []); locals = []; items = ((Data (Number (pos 64)) (Var 1 sort.Val) (Of2 binary.Cons (Of unary.Vi (Number (pos 0))) Nil)) ∷ []) }) }) (record { temps = (name_n0 ∷ name_p10 ∷ name_s ∷ name_t ∷ name_i ∷ name_x1 ∷ name_d0 ∷ name_p1 ∷ name_q1 ∷ []); body = (c.Then (c.Set 2 (c.Const 3)) (c.Then (c.Set 3 (c.Const 0)) (c.Then (c.Store (root.Temp 1) c.Here (c.Const 0)) (c.Then (c.Set 3 (c.Const 3)) (c.Then (c.Set 2 (c.Const 7)) (c.Then (c.Set 2 (c.Binary two.Div kind.Signed (c.Const 1) (c.Const 1))) (c.Then (c.Set 2 (c.Binary two.Div kind.Signed (c.Const 2) (c.Const 1))) (c.Then (c.Set 5 (c.Binary two.Shl kind.Unsigned (c.Const 1) (c.Const 4))) (c.Then (c.Return (Some (c.Temp 2))) c.End))))))))) }) (s.Then 1 (s.Set ([]) ([])) s.NoBlock (s.Then 2 (s.Set ([]) ([])) s.NoBlock (s.Then 3 (s.Store 0 ([]) ([])) s.NoBlock (s.Then 4 (s.Set ([]) ([])) s.NoBlock (s.Then 5 (s.Set ([]) ([])) s.NoBlock (s.Then 6 (s.Set ([]) ([])) s.NoBlock (s.Then 7 (s.Pose (record { opened = (sort.Val ∷ []); facts = ((Rel relation.Le (Number (pos 1)) (Named name_a0)) ∷ []); locals = ((name_n0, (Of unary.Vi (Named name_a0))) ∷ (name_p10, (Named name_v1)) ∷ (name_v1, (Of unary.Vi (Number (pos 1)))) ∷ (name_t, (Var 0 sort.Val)) ∷ []); items = ((Data (Number (pos 64)) (Named name_v1) (Of2 binary.Cons (Of unary.Vi (Number (pos 0))) Nil)) ∷ []) }) (name_k2 ∷ []) ([])) (s.WithBlock (s.Then 8 (s.Meet ((Of unary.Vi (Number (pos 3))) ∷ []) ([])) s.NoBlock s.End) s.NoBlock) (s.Then 9 (s.Set ([]) ([])) s.NoBlock (s.Then 10 (s.Set ([]) ([])) s.NoBlock (s.Then 11 (s.Return ([]) ([]) ([])) s.NoBlock s.End)))))))))) ≡ (RefusedAt 7 12 4)
unfolding computing
random_263 = refl

random_264 : body_verdict (record { predicates = ([]); specs = ((record { is_void = false; name = name_f; params = (name_n0 ∷ name_p10 ∷ []); vars = ((name_a0, sort.Int) ∷ (name_v1, sort.Val) ∷ (name_o1, sort.Int) ∷ []); pre = (record { opened = []; facts = ((Rel relation.Le (Number (pos 1)) (Var 0 sort.Int)) ∷ (Rel relation.Le (Var 0 sort.Int) (Number (pos 1000))) ∷ (Rel relation.Le (Number (pos 0)) (Var 2 sort.Int)) ∷ (Rel relation.Le (Var 2 sort.Int) (Number (pos 20))) ∷ []); locals = ((name_n0, (Of unary.Vi (Var 0 sort.Int))) ∷ (name_p10, (Var 1 sort.Val)) ∷ []); items = ((Data (Number (pos 64)) (Var 1 sort.Val) (Of2 binary.Cons (Of unary.Vi (Var 2 sort.Int)) Nil)) ∷ []) }); post = (record { opened = []; facts = ((Rel relation.Eq (Var 3 sort.Val) (Of unary.Vi (Number (pos 2)))) ∷ []); locals = []; items = ((Data (Number (pos 64)) (Var 1 sort.Val) (Of2 binary.Cons (Of unary.Vi (Number (pos 0))) Nil)) ∷ []) }) }) ∷ (record { is_void = false; name = name_main; params = ([]); vars = []; pre = (record { opened = []; facts = ([]); locals = []; items = ([]) }); post = (record { opened = []; facts = ((Rel relation.Eq (Var 0 sort.Val) (Of unary.Vi (Number (pos 0)))) ∷ []); locals = []; items = ([]) }) }) ∷ []) }) (record { is_void = false; name = name_f; params = (name_n0 ∷ name_p10 ∷ []); vars = ((name_a0, sort.Int) ∷ (name_v1, sort.Val) ∷ (name_o1, sort.Int) ∷ []); pre = (record { opened = []; facts = ((Rel relation.Le (Number (pos 1)) (Var 0 sort.Int)) ∷ (Rel relation.Le (Var 0 sort.Int) (Number (pos 1000))) ∷ (Rel relation.Le (Number (pos 0)) (Var 2 sort.Int)) ∷ (Rel relation.Le (Var 2 sort.Int) (Number (pos 20))) ∷ []); locals = ((name_n0, (Of unary.Vi (Var 0 sort.Int))) ∷ (name_p10, (Var 1 sort.Val)) ∷ []); items = ((Data (Number (pos 64)) (Var 1 sort.Val) (Of2 binary.Cons (Of unary.Vi (Var 2 sort.Int)) Nil)) ∷ []) }); post = (record { opened = []; facts = ((Rel relation.Eq (Var 3 sort.Val) (Of unary.Vi (Number (pos 2)))) ∷ []); locals = []; items = ((Data (Number (pos 64)) (Var 1 sort.Val) (Of2 binary.Cons (Of unary.Vi (Number (pos 0))) Nil)) ∷ []) }) }) (record { temps = (name_n0 ∷ name_p10 ∷ name_s ∷ name_t ∷ name_i ∷ name_x1 ∷ name_d0 ∷ name_p1 ∷ name_q1 ∷ []); body = (c.Then (c.Set 2 (c.Const 3)) (c.Then (c.Set 3 (c.Const 0)) (c.Then (c.Store (root.Temp 1) c.Here (c.Const 0)) (c.Then (c.Set 3 (c.Const 3)) (c.Then (c.Set 2 (c.Const 7)) (c.Then (c.Set 2 (c.Binary two.Div kind.Signed (c.Const 1) (c.Const 1))) (c.Then (c.Set 2 (c.Binary two.Div kind.Signed (c.Const 2) (c.Const 1))) (c.Then (c.Set 5 (c.Binary two.Shl kind.Unsigned (c.Const 1) (c.Const 4))) (c.Then (c.Return (Some (c.Temp 2))) c.End))))))))) }) (s.Then 1 (s.Set ([]) ([])) s.NoBlock (s.Then 2 (s.Set ([]) ([])) s.NoBlock (s.Then 3 (s.Store 0 ([]) ([])) s.NoBlock (s.Then 4 (s.Set ([]) ([])) s.NoBlock (s.Then 5 (s.Set ([]) ([])) s.NoBlock (s.Then 6 (s.Set ([]) ([])) s.NoBlock (s.Then 7 (s.Pose (record { opened = (sort.Val ∷ []); facts = ((Rel relation.Le (Number (pos 1)) (Named name_a0)) ∷ []); locals = ((name_n0, (Of unary.Vi (Named name_a0))) ∷ (name_p10, (Named name_v1)) ∷ (name_s, (Of unary.Vi (Number (pos 1)))) ∷ (name_t, (Var 0 sort.Val)) ∷ []); items = ((Data (Number (pos 3)) (Named name_v1) (Of2 binary.Cons (Of unary.Vi (Number (pos 0))) Nil)) ∷ []) }) (name_k2 ∷ []) ([])) (s.WithBlock (s.Then 8 (s.Meet ((Of unary.Vi (Number (pos 3))) ∷ []) ([])) s.NoBlock s.End) s.NoBlock) (s.Then 9 (s.Set ([]) ([])) s.NoBlock (s.Then 10 (s.Set ([]) ([])) s.NoBlock (s.Then 11 (s.Return ([]) ([]) ([])) s.NoBlock s.End)))))))))) ≡ (RefusedAt 8 37 5)
unfolding computing
random_264 = refl

random_265 : body_verdict (record { predicates = ([]); specs = ((record { is_void = false; name = name_f; params = (name_n0 ∷ name_p10 ∷ []); vars = ((name_a0, sort.Int) ∷ (name_v1, sort.Val) ∷ (name_o1, sort.Int) ∷ []); pre = (record { opened = []; facts = ((Rel relation.Le (Number (pos 1)) (Var 0 sort.Int)) ∷ (Rel relation.Le (Var 0 sort.Int) (Number (pos 1000))) ∷ (Rel relation.Le (Number (pos 0)) (Var 2 sort.Int)) ∷ (Rel relation.Le (Var 2 sort.Int) (Number (pos 20))) ∷ []); locals = ((name_n0, (Of unary.Vi (Var 0 sort.Int))) ∷ (name_p10, (Var 1 sort.Val)) ∷ []); items = ((Data (Number (pos 64)) (Var 1 sort.Val) (Of2 binary.Cons (Of unary.Vi (Var 2 sort.Int)) Nil)) ∷ []) }); post = (record { opened = []; facts = ((Rel relation.Eq (Var 3 sort.Val) (Of unary.Vi (Number (pos 2)))) ∷ []); locals = []; items = ((Data (Number (pos 64)) (Var 1 sort.Val) (Of2 binary.Cons (Of unary.Vi (Number (pos 0))) Nil)) ∷ []) }) }) ∷ (record { is_void = false; name = name_main; params = ([]); vars = []; pre = (record { opened = []; facts = ([]); locals = []; items = ([]) }); post = (record { opened = []; facts = ((Rel relation.Eq (Var 0 sort.Val) (Of unary.Vi (Number (pos 0)))) ∷ []); locals = []; items = ([]) }) }) ∷ []) }) (record { is_void = false; name = name_f; params = (name_n0 ∷ name_p10 ∷ []); vars = ((name_a0, sort.Int) ∷ (name_v1, sort.Val) ∷ (name_o1, sort.Int) ∷ []); pre = (record { opened = []; facts = ((Rel relation.Le (Number (pos 1)) (Var 0 sort.Int)) ∷ (Rel relation.Le (Var 0 sort.Int) (Number (pos 1000))) ∷ (Rel relation.Le (Number (pos 0)) (Var 2 sort.Int)) ∷ (Rel relation.Le (Var 2 sort.Int) (Number (pos 20))) ∷ []); locals = ((name_n0, (Of unary.Vi (Var 0 sort.Int))) ∷ (name_p10, (Var 1 sort.Val)) ∷ []); items = ((Data (Number (pos 64)) (Var 1 sort.Val) (Of2 binary.Cons (Of unary.Vi (Var 2 sort.Int)) Nil)) ∷ []) }); post = (record { opened = []; facts = ((Rel relation.Eq (Var 3 sort.Val) (Of unary.Vi (Number (pos 2)))) ∷ []); locals = []; items = ((Data (Number (pos 64)) (Var 1 sort.Val) (Of2 binary.Cons (Of unary.Vi (Number (pos 0))) Nil)) ∷ []) }) }) (record { temps = (name_n0 ∷ name_p10 ∷ name_s ∷ name_t ∷ name_i ∷ name_x1 ∷ name_d0 ∷ name_p1 ∷ name_q1 ∷ []); body = (c.Then (c.Set 2 (c.Const 3)) (c.Then (c.Set 3 (c.Const 0)) (c.Then (c.Store (root.Temp 1) c.Here (c.Const 0)) (c.Then (c.Set 3 (c.Const 3)) (c.Then (c.Set 2 (c.Const 7)) (c.Then (c.Set 2 (c.Binary two.Div kind.Signed (c.Const 1) (c.Const 1))) (c.Then (c.Set 2 (c.Binary two.Div kind.Signed (c.Const 2) (c.Const 1))) (c.Then (c.Set 5 (c.Binary two.Shl kind.Unsigned (c.Const 1) (c.Const 4))) (c.Then (c.Return (Some (c.Temp 2))) c.End))))))))) }) (s.Then 1 (s.Set ([]) ([])) s.NoBlock (s.Then 2 (s.Set ([]) ([])) s.NoBlock (s.Then 3 (s.Store 0 ([]) ([])) s.NoBlock (s.Then 4 (s.Set ([]) ([])) s.NoBlock (s.Then 5 (s.Set ([]) ([])) s.NoBlock (s.Then 6 (s.Set ([]) ([])) s.NoBlock (s.Then 7 (s.Pose (record { opened = (sort.Val ∷ []); facts = ((Rel relation.Le (Number (pos 1)) (Named name_a0)) ∷ []); locals = ((name_n0, (Of unary.Vi (Named name_a0))) ∷ (name_p10, (Named name_v1)) ∷ (name_s, (Of unary.Vi (Number (pos 1)))) ∷ (name_t, (Var 0 sort.Val)) ∷ []); items = ((Data (Number (pos 32)) (Named name_v1) (Of2 binary.Cons (Of unary.Vi (Number (pos 0))) Nil)) ∷ []) }) (name_k2 ∷ []) ([])) (s.WithBlock (s.Then 8 (s.Meet ((Of unary.Vi (Number (pos 3))) ∷ []) ([])) s.NoBlock s.End) s.NoBlock) (s.Then 9 (s.Set ([]) ([])) s.NoBlock (s.Then 10 (s.Set ([]) ([])) s.NoBlock (s.Then 11 (s.Return ([]) ([]) ([])) s.NoBlock s.End)))))))))) ≡ (RefusedAt 8 37 5)
unfolding computing
random_265 = refl

random_266 : body_verdict (record { predicates = ([]); specs = ((record { is_void = false; name = name_f; params = (name_n0 ∷ name_p10 ∷ []); vars = ((name_a0, sort.Int) ∷ (name_v1, sort.Val) ∷ (name_o1, sort.Int) ∷ []); pre = (record { opened = []; facts = ((Rel relation.Le (Number (pos 1)) (Var 0 sort.Int)) ∷ (Rel relation.Le (Var 0 sort.Int) (Number (pos 1000))) ∷ (Rel relation.Le (Number (pos 0)) (Var 2 sort.Int)) ∷ (Rel relation.Le (Var 2 sort.Int) (Number (pos 20))) ∷ []); locals = ((name_n0, (Of unary.Vi (Var 0 sort.Int))) ∷ (name_p10, (Var 1 sort.Val)) ∷ []); items = ((Data (Number (pos 64)) (Var 1 sort.Val) (Of2 binary.Cons (Of unary.Vi (Var 2 sort.Int)) Nil)) ∷ []) }); post = (record { opened = []; facts = ((Rel relation.Eq (Var 3 sort.Val) (Of unary.Vi (Number (pos 2)))) ∷ []); locals = []; items = ((Data (Number (pos 64)) (Var 1 sort.Val) (Of2 binary.Cons (Of unary.Vi (Number (pos 0))) Nil)) ∷ []) }) }) ∷ (record { is_void = false; name = name_main; params = ([]); vars = []; pre = (record { opened = []; facts = ([]); locals = []; items = ([]) }); post = (record { opened = []; facts = ((Rel relation.Eq (Var 0 sort.Val) (Of unary.Vi (Number (pos 0)))) ∷ []); locals = []; items = ([]) }) }) ∷ []) }) (record { is_void = false; name = name_f; params = (name_n0 ∷ name_p10 ∷ []); vars = ((name_a0, sort.Int) ∷ (name_v1, sort.Val) ∷ (name_o1, sort.Int) ∷ []); pre = (record { opened = []; facts = ((Rel relation.Le (Number (pos 1)) (Var 0 sort.Int)) ∷ (Rel relation.Le (Var 0 sort.Int) (Number (pos 1000))) ∷ (Rel relation.Le (Number (pos 0)) (Var 2 sort.Int)) ∷ (Rel relation.Le (Var 2 sort.Int) (Number (pos 20))) ∷ []); locals = ((name_n0, (Of unary.Vi (Var 0 sort.Int))) ∷ (name_p10, (Var 1 sort.Val)) ∷ []); items = ((Data (Number (pos 64)) (Var 1 sort.Val) (Of2 binary.Cons (Of unary.Vi (Var 2 sort.Int)) Nil)) ∷ []) }); post = (record { opened = []; facts = ((Rel relation.Eq (Var 3 sort.Val) (Of unary.Vi (Number (pos 2)))) ∷ []); locals = []; items = ((Data (Number (pos 64)) (Var 1 sort.Val) (Of2 binary.Cons (Of unary.Vi (Number (pos 0))) Nil)) ∷ []) }) }) (record { temps = (name_n0 ∷ name_p10 ∷ name_s ∷ name_t ∷ name_i ∷ name_x1 ∷ name_d0 ∷ name_p1 ∷ name_q1 ∷ []); body = (c.Then (c.Set 2 (c.Const 3)) (c.Then (c.Set 3 (c.Const 0)) (c.Then (c.Store (root.Temp 1) c.Here (c.Const 0)) (c.Then (c.Set 3 (c.Const 3)) (c.Then (c.Set 2 (c.Const 7)) (c.Then (c.Set 2 (c.Binary two.Div kind.Signed (c.Const 1) (c.Const 1))) (c.Then (c.Set 2 (c.Binary two.Div kind.Signed (c.Const 2) (c.Const 1))) (c.Then (c.Set 5 (c.Binary two.Shl kind.Unsigned (c.Const 1) (c.Const 4))) (c.Then (c.Return (Some (c.Temp 2))) c.End))))))))) }) (s.Then 1 (s.Set ([]) ([])) s.NoBlock (s.Then 2 (s.Set ([]) ([])) s.NoBlock (s.Then 3 (s.Store 0 ([]) ([])) s.NoBlock (s.Then 4 (s.Set ([]) ([])) s.NoBlock (s.Then 5 (s.Set ([]) ([])) s.NoBlock (s.Then 6 (s.Set ([]) ([])) s.NoBlock (s.Then 7 (s.Pose (record { opened = (sort.Val ∷ []); facts = ((Rel relation.Le (Number (pos 1)) (Named name_a0)) ∷ []); locals = ((name_n0, (Of unary.Vi (Named name_a0))) ∷ (name_p10, (Named name_v1)) ∷ (name_s, (Of unary.Vi (Number (pos 1)))) ∷ (name_t, (Var 0 sort.Val)) ∷ []); items = ((Data (Number (pos 64)) (Named name_v1) (Of2 binary.Cons (Of unary.Vi (Number (pos 0))) Nil)) ∷ []) }) (name_k2 ∷ []) ([])) (s.WithBlock (s.Then 8 (s.Meet ((Of unary.Vi (Number (pos 3))) ∷ []) ([])) s.NoBlock s.End) s.NoBlock) (s.Then 9 (s.Pose (record { opened = (sort.Val ∷ []); facts = ((Rel relation.Le (Number (pos 1)) (Named name_a0)) ∷ []); locals = ((name_n0, (Of unary.Vi (Named name_a0))) ∷ (name_p10, (Named name_v1)) ∷ (name_s, (Of unary.Vi (Number (pos 1)))) ∷ (name_t, (Var 0 sort.Val)) ∷ []); items = ((Data (Number (pos 64)) (Named name_v1) (Of2 binary.Cons (Of unary.Vi (Number (pos 0))) Nil)) ∷ []) }) (name_k2 ∷ []) ([])) (s.WithBlock (s.Then 10 (s.Meet ((Of unary.Vi (Number (pos 3))) ∷ []) ([])) s.NoBlock s.End) s.NoBlock) (s.Then 11 (s.Set ([]) ([])) s.NoBlock (s.Then 12 (s.Set ([]) ([])) s.NoBlock (s.Then 13 (s.Return ([]) ([]) ([])) s.NoBlock s.End))))))))))) ≡ (RefusedAt 9 12 6)
unfolding computing
random_266 = refl

random_267 : body_verdict (record { predicates = ([]); specs = ((record { is_void = false; name = name_f; params = (name_n0 ∷ name_p10 ∷ []); vars = ((name_a0, sort.Int) ∷ (name_v1, sort.Val) ∷ (name_o1, sort.Int) ∷ []); pre = (record { opened = []; facts = ((Rel relation.Le (Number (pos 1)) (Var 0 sort.Int)) ∷ (Rel relation.Le (Var 0 sort.Int) (Number (pos 1000))) ∷ (Rel relation.Le (Number (pos 0)) (Var 2 sort.Int)) ∷ (Rel relation.Le (Var 2 sort.Int) (Number (pos 20))) ∷ []); locals = ((name_n0, (Of unary.Vi (Var 0 sort.Int))) ∷ (name_p10, (Var 1 sort.Val)) ∷ []); items = ((Data (Number (pos 64)) (Var 1 sort.Val) (Of2 binary.Cons (Of unary.Vi (Var 2 sort.Int)) Nil)) ∷ []) }); post = (record { opened = []; facts = ((Rel relation.Eq (Var 3 sort.Val) (Of unary.Vi (Number (pos 2)))) ∷ []); locals = []; items = ((Data (Number (pos 64)) (Var 1 sort.Val) (Of2 binary.Cons (Of unary.Vi (Number (pos 0))) Nil)) ∷ []) }) }) ∷ (record { is_void = false; name = name_main; params = ([]); vars = []; pre = (record { opened = []; facts = ([]); locals = []; items = ([]) }); post = (record { opened = []; facts = ((Rel relation.Eq (Var 0 sort.Val) (Of unary.Vi (Number (pos 0)))) ∷ []); locals = []; items = ([]) }) }) ∷ []) }) (record { is_void = false; name = name_f; params = (name_n0 ∷ name_p10 ∷ []); vars = ((name_a0, sort.Int) ∷ (name_v1, sort.Val) ∷ (name_o1, sort.Int) ∷ []); pre = (record { opened = []; facts = ((Rel relation.Le (Number (pos 1)) (Var 0 sort.Int)) ∷ (Rel relation.Le (Var 0 sort.Int) (Number (pos 1000))) ∷ (Rel relation.Le (Number (pos 0)) (Var 2 sort.Int)) ∷ (Rel relation.Le (Var 2 sort.Int) (Number (pos 20))) ∷ []); locals = ((name_n0, (Of unary.Vi (Var 0 sort.Int))) ∷ (name_p10, (Var 1 sort.Val)) ∷ []); items = ((Data (Number (pos 64)) (Var 1 sort.Val) (Of2 binary.Cons (Of unary.Vi (Var 2 sort.Int)) Nil)) ∷ []) }); post = (record { opened = []; facts = ((Rel relation.Eq (Var 3 sort.Val) (Of unary.Vi (Number (pos 2)))) ∷ []); locals = []; items = ((Data (Number (pos 64)) (Var 1 sort.Val) (Of2 binary.Cons (Of unary.Vi (Number (pos 0))) Nil)) ∷ []) }) }) (record { temps = (name_n0 ∷ name_p10 ∷ name_s ∷ name_t ∷ name_i ∷ name_x1 ∷ name_d0 ∷ name_p1 ∷ name_q1 ∷ []); body = (c.Then (c.Set 2 (c.Const 3)) (c.Then (c.Set 3 (c.Const 0)) (c.Then (c.Store (root.Temp 1) c.Here (c.Const 0)) (c.Then (c.Set 3 (c.Const 3)) (c.Then (c.Set 2 (c.Const 7)) (c.Then (c.Set 2 (c.Binary two.Div kind.Signed (c.Const 1) (c.Const 1))) (c.Then (c.Set 2 (c.Binary two.Div kind.Signed (c.Const 2) (c.Const 1))) (c.Then (c.Set 5 (c.Binary two.Shl kind.Unsigned (c.Const 1) (c.Const 4))) (c.Then (c.Return (Some (c.Temp 2))) c.End))))))))) }) (s.Then 1 (s.Set ([]) ([])) s.NoBlock (s.Then 2 (s.Set ([]) ([])) s.NoBlock (s.Then 3 (s.Store 0 ([]) ([])) s.NoBlock (s.Then 4 (s.Set ([]) ([])) s.NoBlock (s.Then 5 (s.Set ([]) ([])) s.NoBlock (s.Then 6 (s.Set ([]) ([])) s.NoBlock (s.Then 7 (s.Pose (record { opened = (sort.Val ∷ []); facts = ((Rel relation.Le (Number (pos 1)) (Named name_a0)) ∷ []); locals = ((name_n0, (Of unary.Vi (Named name_a0))) ∷ (name_p10, (Named name_v1)) ∷ (name_s, (Of unary.Vi (Number (pos 1)))) ∷ (name_t, (Var 0 sort.Val)) ∷ []); items = ((Data (Number (pos 64)) (Named name_v1) (Of2 binary.Cons (Of unary.Vi (Number (pos 0))) Nil)) ∷ []) }) (name_k2 ∷ []) ([])) (s.WithBlock (s.Then 8 (s.Meet ((Of unary.Vi (Number (pos 3))) ∷ []) ([])) s.NoBlock s.End) s.NoBlock) (s.Then 9 (s.Set ([]) ([])) s.NoBlock (s.Then 10 (s.Set ([]) ([])) s.NoBlock (s.Then 11 (s.Meet ((Of unary.Vi (Number (pos 3))) ∷ []) ([])) s.NoBlock (s.Then 12 (s.Return ([]) ([]) ([])) s.NoBlock s.End))))))))))) ≡ (RefusedAt 11 37 1)
unfolding computing
random_267 = refl

random_268 : body_verdict (record { predicates = ([]); specs = ((record { is_void = false; name = name_f; params = (name_n0 ∷ name_p10 ∷ []); vars = ((name_a0, sort.Int) ∷ (name_v1, sort.Val) ∷ (name_o1, sort.Int) ∷ []); pre = (record { opened = []; facts = ((Rel relation.Le (Number (pos 1)) (Var 0 sort.Int)) ∷ (Rel relation.Le (Var 0 sort.Int) (Number (pos 1000))) ∷ (Rel relation.Le (Number (pos 0)) (Var 2 sort.Int)) ∷ (Rel relation.Le (Var 2 sort.Int) (Number (pos 20))) ∷ []); locals = ((name_n0, (Of unary.Vi (Var 0 sort.Int))) ∷ (name_p10, (Var 1 sort.Val)) ∷ []); items = ((Data (Number (pos 64)) (Var 1 sort.Val) (Of2 binary.Cons (Of unary.Vi (Var 2 sort.Int)) Nil)) ∷ []) }); post = (record { opened = []; facts = ((Rel relation.Eq (Var 3 sort.Val) (Of unary.Vi (Number (pos 2)))) ∷ []); locals = []; items = ((Data (Number (pos 64)) (Var 1 sort.Val) (Of2 binary.Cons (Of unary.Vi (Number (pos 0))) Nil)) ∷ []) }) }) ∷ (record { is_void = false; name = name_main; params = ([]); vars = []; pre = (record { opened = []; facts = ([]); locals = []; items = ([]) }); post = (record { opened = []; facts = ((Rel relation.Eq (Var 0 sort.Val) (Of unary.Vi (Number (pos 0)))) ∷ []); locals = []; items = ([]) }) }) ∷ []) }) (record { is_void = false; name = name_f; params = (name_n0 ∷ name_p10 ∷ []); vars = ((name_a0, sort.Int) ∷ (name_v1, sort.Val) ∷ (name_o1, sort.Int) ∷ []); pre = (record { opened = []; facts = ((Rel relation.Le (Number (pos 1)) (Var 0 sort.Int)) ∷ (Rel relation.Le (Var 0 sort.Int) (Number (pos 1000))) ∷ (Rel relation.Le (Number (pos 0)) (Var 2 sort.Int)) ∷ (Rel relation.Le (Var 2 sort.Int) (Number (pos 20))) ∷ []); locals = ((name_n0, (Of unary.Vi (Var 0 sort.Int))) ∷ (name_p10, (Var 1 sort.Val)) ∷ []); items = ((Data (Number (pos 64)) (Var 1 sort.Val) (Of2 binary.Cons (Of unary.Vi (Var 2 sort.Int)) Nil)) ∷ []) }); post = (record { opened = []; facts = ((Rel relation.Eq (Var 3 sort.Val) (Of unary.Vi (Number (pos 2)))) ∷ []); locals = []; items = ((Data (Number (pos 64)) (Var 1 sort.Val) (Of2 binary.Cons (Of unary.Vi (Number (pos 0))) Nil)) ∷ []) }) }) (record { temps = (name_n0 ∷ name_p10 ∷ name_s ∷ name_t ∷ name_i ∷ name_x1 ∷ name_d0 ∷ name_p1 ∷ name_q1 ∷ []); body = (c.Then (c.Set 2 (c.Const 3)) (c.Then (c.Set 3 (c.Const 0)) (c.Then (c.Store (root.Temp 1) c.Here (c.Const 0)) (c.Then (c.Set 3 (c.Const 3)) (c.Then (c.Set 2 (c.Const 7)) (c.Then (c.Set 2 (c.Binary two.Div kind.Signed (c.Const 1) (c.Const 1))) (c.Then (c.Set 2 (c.Binary two.Div kind.Signed (c.Const 2) (c.Const 1))) (c.Then (c.Set 5 (c.Binary two.Shl kind.Unsigned (c.Const 1) (c.Const 4))) (c.Then (c.Return (Some (c.Temp 2))) c.End))))))))) }) (s.Then 1 (s.Set ([]) ([])) s.NoBlock (s.Then 2 (s.Set ([]) ([])) s.NoBlock (s.Then 3 (s.Store 0 ([]) ([])) s.NoBlock (s.Then 4 (s.Set ([]) ([])) s.NoBlock (s.Then 5 (s.Set ([]) ([])) s.NoBlock (s.Then 6 (s.Set ([]) ([])) s.NoBlock (s.Then 7 (s.Set ([]) ([])) s.NoBlock (s.Then 8 (s.Pose (record { opened = (sort.Val ∷ []); facts = ((Rel relation.Le (Number (pos 1)) (Named name_a0)) ∷ []); locals = ((name_n0, (Of unary.Vi (Named name_a0))) ∷ (name_p10, (Named name_v1)) ∷ (name_s, (Of unary.Vi (Number (pos 1)))) ∷ (name_t, (Var 0 sort.Val)) ∷ []); items = ((Data (Number (pos 64)) (Named name_v1) (Of2 binary.Cons (Of unary.Vi (Number (pos 0))) Nil)) ∷ []) }) (name_k2 ∷ []) ([])) (s.WithBlock (s.Then 9 (s.Meet ((Of unary.Vi (Number (pos 3))) ∷ []) ([])) s.NoBlock s.End) s.NoBlock) (s.Then 10 (s.Set ([]) ([])) s.NoBlock (s.Then 11 (s.Set ([]) ([])) s.NoBlock (s.Then 12 (s.Return ([]) ([]) ([])) s.NoBlock s.End))))))))))) ≡ (RefusedAt 9 37 4)
unfolding computing
random_268 = refl

random_269 : body_verdict (record { predicates = ([]); specs = ((record { is_void = false; name = name_f; params = (name_n0 ∷ name_p10 ∷ []); vars = ((name_a0, sort.Int) ∷ (name_v1, sort.Val) ∷ (name_o1, sort.Int) ∷ []); pre = (record { opened = []; facts = ((Rel relation.Le (Number (pos 1)) (Var 0 sort.Int)) ∷ (Rel relation.Le (Var 0 sort.Int) (Number (pos 1000))) ∷ (Rel relation.Le (Number (pos 0)) (Var 2 sort.Int)) ∷ (Rel relation.Le (Var 2 sort.Int) (Number (pos 20))) ∷ []); locals = ((name_n0, (Of unary.Vi (Var 0 sort.Int))) ∷ (name_p10, (Var 1 sort.Val)) ∷ []); items = ((Data (Number (pos 64)) (Var 1 sort.Val) (Of2 binary.Cons (Of unary.Vi (Var 2 sort.Int)) Nil)) ∷ []) }); post = (record { opened = []; facts = ((Rel relation.Eq (Var 3 sort.Val) (Of unary.Vi (Number (pos 2)))) ∷ []); locals = []; items = ((Data (Number (pos 64)) (Var 1 sort.Val) (Of2 binary.Cons (Of unary.Vi (Number (pos 0))) Nil)) ∷ []) }) }) ∷ (record { is_void = false; name = name_main; params = ([]); vars = []; pre = (record { opened = []; facts = ([]); locals = []; items = ([]) }); post = (record { opened = []; facts = ((Rel relation.Eq (Var 0 sort.Val) (Of unary.Vi (Number (pos 0)))) ∷ []); locals = []; items = ([]) }) }) ∷ []) }) (record { is_void = false; name = name_f; params = (name_n0 ∷ name_p10 ∷ []); vars = ((name_a0, sort.Int) ∷ (name_v1, sort.Val) ∷ (name_o1, sort.Int) ∷ []); pre = (record { opened = []; facts = ((Rel relation.Le (Number (pos 1)) (Var 0 sort.Int)) ∷ (Rel relation.Le (Var 0 sort.Int) (Number (pos 1000))) ∷ (Rel relation.Le (Number (pos 0)) (Var 2 sort.Int)) ∷ (Rel relation.Le (Var 2 sort.Int) (Number (pos 20))) ∷ []); locals = ((name_n0, (Of unary.Vi (Var 0 sort.Int))) ∷ (name_p10, (Var 1 sort.Val)) ∷ []); items = ((Data (Number (pos 64)) (Var 1 sort.Val) (Of2 binary.Cons (Of unary.Vi (Var 2 sort.Int)) Nil)) ∷ []) }); post = (record { opened = []; facts = ((Rel relation.Eq (Var 3 sort.Val) (Of unary.Vi (Number (pos 2)))) ∷ []); locals = []; items = ((Data (Number (pos 64)) (Var 1 sort.Val) (Of2 binary.Cons (Of unary.Vi (Number (pos 0))) Nil)) ∷ []) }) }) (record { temps = (name_n0 ∷ name_p10 ∷ name_s ∷ name_t ∷ name_i ∷ name_x1 ∷ name_d0 ∷ name_p1 ∷ name_q1 ∷ []); body = (c.Then (c.Set 2 (c.Const 3)) (c.Then (c.Set 3 (c.Const 0)) (c.Then (c.Store (root.Temp 1) c.Here (c.Const 0)) (c.Then (c.Set 3 (c.Const 3)) (c.Then (c.Set 2 (c.Const 7)) (c.Then (c.Set 2 (c.Binary two.Div kind.Signed (c.Const 1) (c.Const 1))) (c.Then (c.Set 2 (c.Binary two.Div kind.Signed (c.Const 2) (c.Const 1))) (c.Then (c.Set 5 (c.Binary two.Shl kind.Unsigned (c.Const 1) (c.Const 4))) (c.Then (c.Return (Some (c.Temp 2))) c.End))))))))) }) (s.Then 1 (s.Set ([]) ([])) s.NoBlock (s.Then 2 (s.Set ([]) ([])) s.NoBlock (s.Then 3 (s.Store 0 ([]) ([])) s.NoBlock (s.Then 4 (s.Set ([]) ([])) s.NoBlock (s.Then 5 (s.Set ([]) ([])) s.NoBlock (s.Then 6 (s.Set ([]) ([])) s.NoBlock (s.Then 7 (s.Pose (record { opened = (sort.Val ∷ []); facts = ((Rel relation.Le (Number (pos 1)) (Named name_a0)) ∷ []); locals = ((name_n0, (Of unary.Vi (Named name_a0))) ∷ (name_p10, (Named name_v1)) ∷ (name_s, (Of unary.Vi (Number (pos 1)))) ∷ (name_t, (Var 0 sort.Val)) ∷ []); items = ((Data (Number (pos 63)) (Named name_v1) (Of2 binary.Cons (Of unary.Vi (Number (pos 0))) Nil)) ∷ []) }) (name_k2 ∷ []) ([])) (s.WithBlock (s.Then 8 (s.Meet ((Of unary.Vi (Number (pos 3))) ∷ []) ([])) s.NoBlock s.End) s.NoBlock) (s.Then 9 (s.Set ([]) ([])) s.NoBlock (s.Then 10 (s.Set ([]) ([])) s.NoBlock (s.Then 11 (s.Return ([]) ([]) ([])) s.NoBlock s.End)))))))))) ≡ (RefusedAt 8 37 5)
unfolding computing
random_269 = refl

random_270 : body_verdict (record { predicates = ([]); specs = ((record { is_void = false; name = name_main; params = ([]); vars = []; pre = (record { opened = []; facts = ([]); locals = []; items = ([]) }); post = (record { opened = []; facts = ((Rel relation.Eq (Var 0 sort.Val) (Of unary.Vi (Number (pos 0)))) ∷ []); locals = []; items = ([]) }) }) ∷ []) }) (record { is_void = false; name = name_main; params = ([]); vars = []; pre = (record { opened = []; facts = ([]); locals = []; items = ([]) }); post = (record { opened = []; facts = ((Rel relation.Eq (Var 0 sort.Val) (Of unary.Vi (Number (pos 0)))) ∷ []); locals = []; items = ([]) }) }) (record { temps = (name_s ∷ name_t ∷ name_i ∷ name_x1 ∷ name_d0 ∷ name_p1 ∷ name_q1 ∷ []); body = (c.Then (c.Set 1 (c.Const 0)) (c.Then (c.Set 3 (c.Binary two.Add kind.Unsigned (c.Const 4294967295) (c.Const 1))) (c.Then (c.Set 0 (c.Binary two.Lt kind.Signed (c.Const 2) (c.Const 2))) (c.Then (c.Return (Some (c.Temp 0))) c.End)))) }) (s.Then 1 (s.Set ([]) ([])) s.NoBlock (s.Then 2 (s.Set ([]) ([])) s.NoBlock (s.Then 3 (s.Fold name_E 0 ([]) ([]) ([])) s.NoBlock (s.Then 4 (s.Set ([]) ([])) s.NoBlock (s.Then 5 (s.Return ([]) ([]) ([])) s.NoBlock s.End))))) ≡ (RefusedAt 3 21 7)
unfolding computing
random_270 = refl

random_271 : body_verdict (record { predicates = ([]); specs = ((record { is_void = false; name = name_main; params = ([]); vars = []; pre = (record { opened = []; facts = ([]); locals = []; items = ([]) }); post = (record { opened = []; facts = ((Rel relation.Eq (Var 0 sort.Val) (Of unary.Vi (Number (pos 0)))) ∷ []); locals = []; items = ([]) }) }) ∷ []) }) (record { is_void = false; name = name_main; params = ([]); vars = []; pre = (record { opened = []; facts = ([]); locals = []; items = ([]) }); post = (record { opened = []; facts = ((Rel relation.Eq (Var 0 sort.Val) (Of unary.Vi (Number (pos 0)))) ∷ []); locals = []; items = ([]) }) }) (record { temps = (name_s ∷ name_t ∷ name_i ∷ name_x1 ∷ name_d0 ∷ name_p1 ∷ name_q1 ∷ []); body = (c.Then (c.Set 1 (c.Const 0)) (c.Then (c.Set 3 (c.Binary two.Add kind.Unsigned (c.Const 4294967295) (c.Const 1))) (c.Then (c.Set 0 (c.Binary two.Lt kind.Signed (c.Const 2) (c.Const 2))) (c.Then (c.Return (Some (c.Temp 0))) c.End)))) }) (s.Then 1 (s.Subst name_a0) s.NoBlock (s.Then 2 (s.Set ([]) ([])) s.NoBlock (s.Then 3 (s.Return ([]) ([]) ([])) s.NoBlock s.End))) ≡ (RefusedAt 1 27 1)
unfolding computing
random_271 = refl

random_272 : body_verdict (record { predicates = ([]); specs = ((record { is_void = false; name = name_main; params = ([]); vars = []; pre = (record { opened = []; facts = ([]); locals = []; items = ([]) }); post = (record { opened = []; facts = ((Rel relation.Eq (Var 0 sort.Val) (Of unary.Vi (Number (pos 0)))) ∷ []); locals = []; items = ([]) }) }) ∷ []) }) (record { is_void = false; name = name_main; params = ([]); vars = []; pre = (record { opened = []; facts = ([]); locals = []; items = ([]) }); post = (record { opened = []; facts = ((Rel relation.Eq (Var 0 sort.Val) (Of unary.Vi (Number (pos 0)))) ∷ []); locals = []; items = ([]) }) }) (record { temps = (name_s ∷ name_t ∷ name_i ∷ name_x1 ∷ name_d0 ∷ name_p1 ∷ name_q1 ∷ []); body = (c.Then (c.Set 1 (c.Const 0)) (c.Then (c.Set 3 (c.Binary two.Add kind.Unsigned (c.Const 4294967295) (c.Const 1))) (c.Then (c.Set 0 (c.Binary two.Lt kind.Signed (c.Const 2) (c.Const 2))) (c.Then (c.Return (Some (c.Temp 0))) c.End)))) }) (s.Then 1 (s.Set ([]) ([])) s.NoBlock (s.Then 2 (s.Return ([]) ([]) ([])) s.NoBlock s.End)) ≡ (RefusedAt 2 9 1)
unfolding computing
random_272 = refl

random_273 : body_verdict (record { predicates = ([]); specs = ((record { is_void = false; name = name_main; params = ([]); vars = []; pre = (record { opened = []; facts = ([]); locals = []; items = ([]) }); post = (record { opened = []; facts = ((Rel relation.Eq (Var 0 sort.Val) (Of unary.Vi (Number (pos 0)))) ∷ []); locals = []; items = ([]) }) }) ∷ []) }) (record { is_void = false; name = name_main; params = ([]); vars = []; pre = (record { opened = []; facts = ([]); locals = []; items = ([]) }); post = (record { opened = []; facts = ((Rel relation.Eq (Var 0 sort.Val) (Of unary.Vi (Number (pos 0)))) ∷ []); locals = []; items = ([]) }) }) (record { temps = (name_s ∷ name_t ∷ name_i ∷ name_x1 ∷ name_d0 ∷ name_p1 ∷ name_q1 ∷ []); body = (c.Then (c.Set 1 (c.Const 0)) (c.Then (c.Set 3 (c.Binary two.Add kind.Unsigned (c.Const 4294967295) (c.Const 1))) (c.Then (c.Set 0 (c.Binary two.Lt kind.Signed (c.Const 2) (c.Const 2))) (c.Then (c.Return (Some (c.Temp 0))) c.End)))) }) (s.Then 1 (s.Set ([]) ([])) s.NoBlock (s.Then 2 (s.Set ([]) ([])) s.NoBlock (s.Then 3 (s.Set ([]) ([])) s.NoBlock (s.Then 4 (s.Set ([]) ([])) s.NoBlock (s.Then 5 (s.Return ([]) ([]) ([])) s.NoBlock s.End))))) ≡ (RefusedAt 4 2 1)
unfolding computing
random_273 = refl

random_274 : body_verdict (record { predicates = ([]); specs = ((record { is_void = false; name = name_f; params = ([]); vars = []; pre = (record { opened = []; facts = ([]); locals = []; items = ([]) }); post = (record { opened = []; facts = ((Rel relation.Eq (Var 0 sort.Val) (Of unary.Vi (Number (pos 1)))) ∷ []); locals = []; items = ([]) }) }) ∷ (record { is_void = false; name = name_main; params = ([]); vars = []; pre = (record { opened = []; facts = ([]); locals = []; items = ([]) }); post = (record { opened = []; facts = ((Rel relation.Eq (Var 0 sort.Val) (Of unary.Vi (Number (pos 0)))) ∷ []); locals = []; items = ([]) }) }) ∷ []) }) (record { is_void = false; name = name_f; params = ([]); vars = []; pre = (record { opened = []; facts = ([]); locals = []; items = ([]) }); post = (record { opened = []; facts = ((Rel relation.Eq (Var 0 sort.Val) (Of unary.Vi (Number (pos 1)))) ∷ []); locals = []; items = ([]) }) }) (record { temps = (name_s ∷ name_t ∷ name_i ∷ name_x1 ∷ name_d0 ∷ name_p1 ∷ name_q1 ∷ []); body = (c.Then (c.Set 0 (c.Const 1)) (c.Then (c.Set 1 (c.Const 3)) (c.Then (c.Set 4 (c.Binary two.Mul kind.Signed (c.Temp 0) (c.Const 1))) (c.Then (c.Set 1 (c.Temp 1)) (c.Then (c.Return (Some (c.Binary two.Sub kind.Signed (c.Const 2) (c.Const 1)))) c.End))))) }) (s.Then 1 (s.Set ([]) ([])) s.NoBlock (s.Then 2 (s.Set ([]) ([])) s.NoBlock (s.Then 3 (s.Set ([]) ([])) s.NoBlock (s.Then 4 (s.Set ([]) ([])) s.NoBlock (s.Then 5 (s.Unfold 0 (([]) ∷ [])) (s.WithBlock s.End s.NoBlock) (s.Then 6 (s.Return ([]) ([]) ([])) s.NoBlock s.End)))))) ≡ (RefusedAt 5 22 1)
unfolding computing
random_274 = refl

random_275 : body_verdict (record { predicates = ([]); specs = ((record { is_void = false; name = name_f; params = ([]); vars = []; pre = (record { opened = []; facts = ([]); locals = []; items = ([]) }); post = (record { opened = []; facts = ((Rel relation.Eq (Var 0 sort.Val) (Of unary.Vi (Number (pos 1)))) ∷ []); locals = []; items = ([]) }) }) ∷ (record { is_void = false; name = name_main; params = ([]); vars = []; pre = (record { opened = []; facts = ([]); locals = []; items = ([]) }); post = (record { opened = []; facts = ((Rel relation.Eq (Var 0 sort.Val) (Of unary.Vi (Number (pos 0)))) ∷ []); locals = []; items = ([]) }) }) ∷ []) }) (record { is_void = false; name = name_f; params = ([]); vars = []; pre = (record { opened = []; facts = ([]); locals = []; items = ([]) }); post = (record { opened = []; facts = ((Rel relation.Eq (Var 0 sort.Val) (Of unary.Vi (Number (pos 1)))) ∷ []); locals = []; items = ([]) }) }) (record { temps = (name_s ∷ name_t ∷ name_i ∷ name_x1 ∷ name_d0 ∷ name_p1 ∷ name_q1 ∷ []); body = (c.Then (c.Set 0 (c.Const 1)) (c.Then (c.Set 1 (c.Const 3)) (c.Then (c.Set 4 (c.Binary two.Mul kind.Signed (c.Temp 0) (c.Const 1))) (c.Then (c.Set 1 (c.Temp 1)) (c.Then (c.Return (Some (c.Binary two.Sub kind.Signed (c.Const 2) (c.Const 1)))) c.End))))) }) (s.Then 1 (s.Set ([]) ([])) s.NoBlock (s.Then 2 (s.Share 0 (Number (pos 32)) ([])) s.NoBlock (s.Then 3 (s.Set ([]) ([])) s.NoBlock (s.Then 4 (s.Set ([]) ([])) s.NoBlock (s.Then 5 (s.Set ([]) ([])) s.NoBlock (s.Then 6 (s.Return ([]) ([]) ([])) s.NoBlock s.End)))))) ≡ (RefusedAt 2 31 1)
unfolding computing
random_275 = refl

random_276 : body_verdict (record { predicates = ([]); specs = ((record { is_void = false; name = name_f; params = ([]); vars = []; pre = (record { opened = []; facts = ([]); locals = []; items = ([]) }); post = (record { opened = []; facts = ((Rel relation.Eq (Var 0 sort.Val) (Of unary.Vi (Number (pos 1)))) ∷ []); locals = []; items = ([]) }) }) ∷ (record { is_void = false; name = name_main; params = ([]); vars = []; pre = (record { opened = []; facts = ([]); locals = []; items = ([]) }); post = (record { opened = []; facts = ((Rel relation.Eq (Var 0 sort.Val) (Of unary.Vi (Number (pos 0)))) ∷ []); locals = []; items = ([]) }) }) ∷ []) }) (record { is_void = false; name = name_f; params = ([]); vars = []; pre = (record { opened = []; facts = ([]); locals = []; items = ([]) }); post = (record { opened = []; facts = ((Rel relation.Eq (Var 0 sort.Val) (Of unary.Vi (Number (pos 1)))) ∷ []); locals = []; items = ([]) }) }) (record { temps = (name_s ∷ name_t ∷ name_i ∷ name_x1 ∷ name_d0 ∷ name_p1 ∷ name_q1 ∷ []); body = (c.Then (c.Set 0 (c.Const 1)) (c.Then (c.Set 1 (c.Const 3)) (c.Then (c.Set 4 (c.Binary two.Mul kind.Signed (c.Temp 0) (c.Const 1))) (c.Then (c.Set 1 (c.Temp 1)) (c.Then (c.Return (Some (c.Binary two.Sub kind.Signed (c.Const 2) (c.Const 1)))) c.End))))) }) (s.Then 1 (s.Set ([]) ([])) s.NoBlock (s.Then 2 (s.Set ([]) ([])) s.NoBlock (s.Then 3 (s.Set ([]) ([])) s.NoBlock (s.Then 4 (s.Return ([]) ([]) ([])) s.NoBlock s.End)))) ≡ (RefusedAt 4 9 1)
unfolding computing
random_276 = refl

random_277 : body_verdict (record { predicates = ([]); specs = ((record { is_void = false; name = name_f; params = ([]); vars = []; pre = (record { opened = []; facts = ([]); locals = []; items = ([]) }); post = (record { opened = []; facts = ((Rel relation.Eq (Var 0 sort.Val) (Of unary.Vi (Number (pos 1)))) ∷ []); locals = []; items = ([]) }) }) ∷ (record { is_void = false; name = name_main; params = ([]); vars = []; pre = (record { opened = []; facts = ([]); locals = []; items = ([]) }); post = (record { opened = []; facts = ((Rel relation.Eq (Var 0 sort.Val) (Of unary.Vi (Number (pos 0)))) ∷ []); locals = []; items = ([]) }) }) ∷ []) }) (record { is_void = false; name = name_f; params = ([]); vars = []; pre = (record { opened = []; facts = ([]); locals = []; items = ([]) }); post = (record { opened = []; facts = ((Rel relation.Eq (Var 0 sort.Val) (Of unary.Vi (Number (pos 1)))) ∷ []); locals = []; items = ([]) }) }) (record { temps = (name_s ∷ name_t ∷ name_i ∷ name_x1 ∷ name_d0 ∷ name_p1 ∷ name_q1 ∷ []); body = (c.Then (c.Set 0 (c.Const 1)) (c.Then (c.Set 1 (c.Const 3)) (c.Then (c.Set 4 (c.Binary two.Mul kind.Signed (c.Temp 0) (c.Const 1))) (c.Then (c.Set 1 (c.Temp 1)) c.End)))) }) (s.Then 1 (s.Set ([]) ([])) s.NoBlock (s.Then 2 (s.Set ([]) ([])) s.NoBlock (s.Then 3 (s.Set ([]) ([])) s.NoBlock (s.Then 4 (s.Set ([]) ([])) s.NoBlock (s.Then 5 (s.Set ([]) ([])) s.NoBlock (s.Then 6 (s.Return ([]) ([]) ([])) s.NoBlock s.End)))))) ≡ (RefusedAt 5 2 1)
unfolding computing
random_277 = refl

random_278 : body_verdict (record { predicates = ([]); specs = ((record { is_void = false; name = name_f; params = ([]); vars = []; pre = (record { opened = []; facts = ([]); locals = []; items = ([]) }); post = (record { opened = []; facts = ((Rel relation.Eq (Var 0 sort.Val) (Of unary.Vi (Number (pos 1)))) ∷ []); locals = []; items = ([]) }) }) ∷ (record { is_void = false; name = name_main; params = ([]); vars = []; pre = (record { opened = []; facts = ([]); locals = []; items = ([]) }); post = (record { opened = []; facts = ((Rel relation.Eq (Var 0 sort.Val) (Of unary.Vi (Number (pos 0)))) ∷ []); locals = []; items = ([]) }) }) ∷ []) }) (record { is_void = false; name = name_f; params = ([]); vars = []; pre = (record { opened = []; facts = ([]); locals = []; items = ([]) }); post = (record { opened = []; facts = ((Rel relation.Eq (Var 0 sort.Val) (Of unary.Vi (Number (pos 1)))) ∷ []); locals = []; items = ([]) }) }) (record { temps = (name_s ∷ name_t ∷ name_i ∷ name_x1 ∷ name_d0 ∷ name_p1 ∷ name_q1 ∷ []); body = (c.Then (c.Set 0 (c.Const 1)) (c.Then (c.Set 1 (c.Const 3)) (c.Then (c.Set 4 (c.Binary two.Mul kind.Signed (c.Temp 0) (c.Const 1))) (c.Then (c.Set 1 (c.Temp 1)) (c.Then (c.Return (Some (c.Binary two.Sub kind.Signed (c.Const 2) (c.Const 1)))) c.End))))) }) (s.Then 1 (s.Naming name_a0 (Number (pos 1))) s.NoBlock (s.Then 2 (s.Set ([]) ([])) s.NoBlock (s.Then 3 (s.Set ([]) ([])) s.NoBlock (s.Then 4 (s.Set ([]) ([])) s.NoBlock (s.Then 5 (s.Return ([]) ([]) ([])) s.NoBlock s.End))))) ≡ (RefusedAt 5 9 1)
unfolding computing
random_278 = refl

random_279 : body_verdict (record { predicates = ([]); specs = ((record { is_void = false; name = name_f; params = ([]); vars = []; pre = (record { opened = []; facts = ([]); locals = []; items = ([]) }); post = (record { opened = []; facts = ((Rel relation.Eq (Var 0 sort.Val) (Of unary.Vi (Number (pos 1)))) ∷ []); locals = []; items = ([]) }) }) ∷ (record { is_void = false; name = name_main; params = ([]); vars = []; pre = (record { opened = []; facts = ([]); locals = []; items = ([]) }); post = (record { opened = []; facts = ((Rel relation.Eq (Var 0 sort.Val) (Of unary.Vi (Number (pos 0)))) ∷ []); locals = []; items = ([]) }) }) ∷ []) }) (record { is_void = false; name = name_f; params = ([]); vars = []; pre = (record { opened = []; facts = ([]); locals = []; items = ([]) }); post = (record { opened = []; facts = ((Rel relation.Eq (Var 0 sort.Val) (Of unary.Vi (Number (pos 1)))) ∷ []); locals = []; items = ([]) }) }) (record { temps = (name_s ∷ name_t ∷ name_i ∷ name_x1 ∷ name_d0 ∷ name_p1 ∷ name_q1 ∷ []); body = (c.Then (c.Set 0 (c.Const 1)) (c.Then (c.Set 1 (c.Const 3)) (c.Then (c.Set 4 (c.Binary two.Mul kind.Signed (c.Temp 0) (c.Const 1))) (c.Then (c.Set 1 (c.Temp 1)) (c.Then (c.Return (Some (c.Binary two.Sub kind.Signed (c.Const 2) (c.Const 1)))) c.End))))) }) (s.Then 1 (s.Unfold 0 (([]) ∷ [])) (s.WithBlock s.End s.NoBlock) (s.Then 2 (s.Set ([]) ([])) s.NoBlock (s.Then 3 (s.Set ([]) ([])) s.NoBlock (s.Then 4 (s.Set ([]) ([])) s.NoBlock (s.Then 5 (s.Set ([]) ([])) s.NoBlock (s.Then 6 (s.Return ([]) ([]) ([])) s.NoBlock s.End)))))) ≡ (RefusedAt 1 22 1)
unfolding computing
random_279 = refl

random_280 : body_verdict (record { predicates = ([]); specs = ((record { is_void = false; name = name_f; params = ([]); vars = []; pre = (record { opened = []; facts = ([]); locals = []; items = ([]) }); post = (record { opened = []; facts = ((Rel relation.Eq (Var 0 sort.Val) (Of unary.Vi (Number (pos 1)))) ∷ []); locals = []; items = ([]) }) }) ∷ (record { is_void = false; name = name_main; params = ([]); vars = []; pre = (record { opened = []; facts = ([]); locals = []; items = ([]) }); post = (record { opened = []; facts = ((Rel relation.Eq (Var 0 sort.Val) (Of unary.Vi (Number (pos 0)))) ∷ []); locals = []; items = ([]) }) }) ∷ []) }) (record { is_void = false; name = name_f; params = ([]); vars = []; pre = (record { opened = []; facts = ([]); locals = []; items = ([]) }); post = (record { opened = []; facts = ((Rel relation.Eq (Var 0 sort.Val) (Of unary.Vi (Number (pos 1)))) ∷ []); locals = []; items = ([]) }) }) (record { temps = (name_s ∷ name_t ∷ name_i ∷ name_x1 ∷ name_d0 ∷ name_p1 ∷ name_q1 ∷ []); body = (c.Then (c.Set 0 (c.Const 1)) (c.Then (c.Set 1 (c.Const 3)) (c.Then (c.Set 4 (c.Binary two.Mul kind.Signed (c.Temp 0) (c.Const 1))) (c.Then (c.Set 1 (c.Temp 1)) (c.Then (c.Return (Some (c.Binary two.Sub kind.Signed (c.Const 2) (c.Const 1)))) c.End))))) }) (s.Then 1 (s.Set ([]) ([])) s.NoBlock (s.Then 2 (s.Set ([]) ([])) s.NoBlock (s.Then 3 (s.Set ([]) ([])) s.NoBlock (s.Then 4 (s.Return ([]) ([]) ([])) s.NoBlock (s.Then 5 (s.Set ([]) ([])) s.NoBlock s.End))))) ≡ (RefusedAt 4 9 1)
unfolding computing
random_280 = refl

random_281 : body_verdict (record { predicates = ([]); specs = ((record { is_void = false; name = name_get; params = (name_p ∷ []); vars = ((name_v, sort.Val) ∷ (name_w, sort.Val) ∷ (name_s, sort.Int) ∷ []); pre = (record { opened = []; facts = ((Rel relation.Le (Number (pos 1)) (Var 2 sort.Int)) ∷ []); locals = ((name_p, (Var 0 sort.Val)) ∷ []); items = ((Data (Var 2 sort.Int) (Var 0 sort.Val) (Of2 binary.Cons (Var 1 sort.Val) Nil)) ∷ []) }); post = (record { opened = []; facts = ((Rel relation.Eq (Var 3 sort.Val) (Var 1 sort.Val)) ∷ []); locals = []; items = ((Data (Var 2 sort.Int) (Var 0 sort.Val) (Of2 binary.Cons (Var 1 sort.Val) Nil)) ∷ []) }) }) ∷ (record { is_void = false; name = name_main; params = ([]); vars = []; pre = (record { opened = []; facts = ([]); locals = []; items = ((Data (Number (pos 64)) (Global name_x) (Of2 binary.Cons (Of unary.Vi (Number (pos 3))) Nil)) ∷ (Data (Number (pos 64)) (Global name_g) (Of2 binary.Cons (Of unary.Vi (Number (pos 3))) Nil)) ∷ []) }); post = (record { opened = (sort.List ∷ []); facts = ([]); locals = []; items = ((Data (Number (pos 64)) (Global name_g) (Var 1 sort.List)) ∷ (Data (Number (pos 64)) (Global name_x) (Var 1 sort.List)) ∷ []) }) }) ∷ []) }) (record { is_void = false; name = name_main; params = ([]); vars = []; pre = (record { opened = []; facts = ([]); locals = []; items = ((Data (Number (pos 64)) (Global name_x) (Of2 binary.Cons (Of unary.Vi (Number (pos 3))) Nil)) ∷ (Data (Number (pos 64)) (Global name_g) (Of2 binary.Cons (Of unary.Vi (Number (pos 3))) Nil)) ∷ []) }); post = (record { opened = (sort.List ∷ []); facts = ([]); locals = []; items = ((Data (Number (pos 64)) (Global name_g) (Var 1 sort.List)) ∷ (Data (Number (pos 64)) (Global name_x) (Var 1 sort.List)) ∷ []) }) }) (record { temps = (name_s ∷ name_t ∷ name_i ∷ name_x1 ∷ name_d0 ∷ name_p1 ∷ name_q1 ∷ []); body = (c.Then (c.Set 0 (c.Const 1)) (c.Then (c.Set 1 (c.Const 2147483647)) (c.Then (c.Load 1 (root.Global name_g 1) c.Here) (c.Then (c.Malloc 5 3) (c.Then (c.If (c.Pointers (c.Temp 5) (c.Const 0) true) (c.Then (c.Return (Some (c.Const 0))) c.End) c.End) (c.Then (c.Store (root.Temp 5) (c.Offset 0 c.Here) (c.Const 1)) (c.Then (c.Load 1 (root.Temp 5) (c.Offset 0 c.Here)) (c.Then (c.Free (c.Temp 5)) (c.Then (c.Call (Some 0) name_get ((c.Address (root.Global name_x 1) c.Here) ∷ [])) (c.Then (c.Load 1 (root.Global name_x 1) c.Here) (c.Then (c.Return (Some (c.Temp 0))) c.End))))))))))) }) (s.Then 1 (s.Set ([]) ([])) s.NoBlock (s.Then 2 (s.Set ([]) ([])) s.NoBlock (s.Then 3 (s.Load 1 ([]) ([])) s.NoBlock (s.Then 4 (s.Share 0 (Number (pos 63)) ([])) s.NoBlock (s.Then 5 (s.Unshare 2 1 ([])) s.NoBlock (s.Then 6 (s.Malloc name_k1 ([]) ([])) (s.WithBlock (s.Then 7 (s.If ([]) ([]) ([]) ([])) (s.WithBlock (s.Then 8 (s.Return ((Of2 binary.Cons (Of unary.Vi (Number (pos 3))) Nil) ∷ []) ([]) ([])) s.NoBlock s.End) (s.WithBlock (s.Then 9 (s.Share 1 (Number (pos 1)) ([])) s.NoBlock (s.Then 10 (s.Load 2 ([]) ([])) s.NoBlock (s.Then 11 (s.Absurd ([])) s.NoBlock s.End))) s.NoBlock)) s.End) (s.WithBlock (s.Then 12 (s.If (2 ∷ []) ([]) ([]) ([])) (s.WithBlock (s.Then 13 (s.Subst name_k1) s.NoBlock (s.Then 14 (s.Absurd ([])) s.NoBlock s.End)) (s.WithBlock (s.Then 15 (s.Store 2 ([]) ([])) s.NoBlock (s.Then 16 (s.Unshare 1 2 ([])) s.NoBlock (s.Then 17 (s.Free 2 3 ([])) s.NoBlock (s.Then 18 (s.Call ((Global name_x) ∷ (Of unary.Vi (Number (pos 3))) ∷ (Number (pos 64)) ∷ []) ([]) ([]) (name_k2 ∷ [])) s.NoBlock (s.Then 19 (s.Load 1 ([]) ([])) s.NoBlock (s.Then 20 (s.Return ((Of2 binary.Cons (Of unary.Vi (Number (pos 3))) Nil) ∷ []) ([]) ([])) s.NoBlock s.End)))))) s.NoBlock)) s.End) s.NoBlock)) s.End)))))) ≡ (RefusedAt 10 3 1)
unfolding computing
random_281 = refl

random_282 : body_verdict (record { predicates = ([]); specs = ((record { is_void = false; name = name_get; params = (name_p ∷ []); vars = ((name_v, sort.Val) ∷ (name_w, sort.Val) ∷ (name_s, sort.Int) ∷ []); pre = (record { opened = []; facts = ((Rel relation.Le (Number (pos 1)) (Var 2 sort.Int)) ∷ []); locals = ((name_p, (Var 0 sort.Val)) ∷ []); items = ((Data (Var 2 sort.Int) (Var 0 sort.Val) (Of2 binary.Cons (Var 1 sort.Val) Nil)) ∷ []) }); post = (record { opened = []; facts = ((Rel relation.Eq (Var 3 sort.Val) (Var 1 sort.Val)) ∷ []); locals = []; items = ((Data (Var 2 sort.Int) (Var 0 sort.Val) (Of2 binary.Cons (Var 1 sort.Val) Nil)) ∷ []) }) }) ∷ (record { is_void = false; name = name_main; params = ([]); vars = []; pre = (record { opened = []; facts = ([]); locals = []; items = ((Data (Number (pos 64)) (Global name_x) (Of2 binary.Cons (Of unary.Vi (Number (pos 3))) Nil)) ∷ (Data (Number (pos 64)) (Global name_g) (Of2 binary.Cons (Of unary.Vi (Number (pos 3))) Nil)) ∷ []) }); post = (record { opened = (sort.List ∷ []); facts = ([]); locals = []; items = ((Data (Number (pos 64)) (Global name_g) (Var 1 sort.List)) ∷ (Data (Number (pos 64)) (Global name_x) (Var 1 sort.List)) ∷ []) }) }) ∷ []) }) (record { is_void = false; name = name_main; params = ([]); vars = []; pre = (record { opened = []; facts = ([]); locals = []; items = ((Data (Number (pos 64)) (Global name_x) (Of2 binary.Cons (Of unary.Vi (Number (pos 3))) Nil)) ∷ (Data (Number (pos 64)) (Global name_g) (Of2 binary.Cons (Of unary.Vi (Number (pos 3))) Nil)) ∷ []) }); post = (record { opened = (sort.List ∷ []); facts = ([]); locals = []; items = ((Data (Number (pos 64)) (Global name_g) (Var 1 sort.List)) ∷ (Data (Number (pos 64)) (Global name_x) (Var 1 sort.List)) ∷ []) }) }) (record { temps = (name_s ∷ name_t ∷ name_i ∷ name_x1 ∷ name_d0 ∷ name_p1 ∷ name_q1 ∷ []); body = (c.Then (c.Set 0 (c.Const 1)) (c.Then (c.Set 1 (c.Const 3)) (c.Then (c.Load 1 (root.Global name_g 1) c.Here) (c.Then (c.Malloc 5 3) (c.Then (c.If (c.Pointers (c.Temp 5) (c.Const 0) true) (c.Then (c.Return (Some (c.Const 0))) c.End) c.End) (c.Then (c.Store (root.Temp 5) (c.Offset 0 c.Here) (c.Const 1)) (c.Then (c.Load 1 (root.Temp 5) (c.Offset 0 c.Here)) (c.Then (c.Free (c.Temp 5)) (c.Then (c.Call (Some 0) name_get ((c.Address (root.Global name_x 1) c.Here) ∷ [])) (c.Then (c.Load 1 (root.Global name_x 1) c.Here) c.End)))))))))) }) (s.Then 1 (s.Set ([]) ([])) s.NoBlock (s.Then 2 (s.Set ([]) ([])) s.NoBlock (s.Then 3 (s.Load 1 ([]) ([])) s.NoBlock (s.Then 4 (s.Share 0 (Number (pos 63)) ([])) s.NoBlock (s.Then 5 (s.Unshare 2 1 ([])) s.NoBlock (s.Then 6 (s.Malloc name_k1 ([]) ([])) (s.WithBlock (s.Then 7 (s.If ([]) ([]) ([]) ([])) (s.WithBlock (s.Then 8 (s.Return ((Of2 binary.Cons (Of unary.Vi (Number (pos 3))) Nil) ∷ []) ([]) ([])) s.NoBlock s.End) (s.WithBlock (s.Then 9 (s.Share 1 (Number (pos 1)) ([])) s.NoBlock (s.Then 10 (s.Unshare 1 2 ([])) s.NoBlock (s.Then 11 (s.Absurd ([])) s.NoBlock s.End))) s.NoBlock)) s.End) (s.WithBlock (s.Then 12 (s.If (2 ∷ []) ([]) ([]) ([])) (s.WithBlock (s.Then 13 (s.Subst name_k1) s.NoBlock (s.Then 14 (s.Absurd ([])) s.NoBlock s.End)) (s.WithBlock (s.Then 15 (s.Store 2 ([]) ([])) s.NoBlock (s.Then 16 (s.Load 2 ([]) ([])) s.NoBlock (s.Then 17 (s.Free 2 3 ([])) s.NoBlock (s.Then 18 (s.Call ((Global name_x) ∷ (Of unary.Vi (Number (pos 3))) ∷ (Number (pos 64)) ∷ []) ([]) ([]) (name_k2 ∷ [])) s.NoBlock (s.Then 19 (s.Load 1 ([]) ([])) s.NoBlock (s.Then 20 (s.Return ((Of2 binary.Cons (Of unary.Vi (Number (pos 3))) Nil) ∷ []) ([]) ([])) s.NoBlock s.End)))))) s.NoBlock)) s.End) s.NoBlock)) s.End)))))) ≡ (RefusedAt 20 9 1)
unfolding computing
random_282 = refl

random_283 : body_verdict (record { predicates = ([]); specs = ((record { is_void = false; name = name_get; params = (name_p ∷ []); vars = ((name_v, sort.Val) ∷ (name_w, sort.Val) ∷ (name_s, sort.Int) ∷ []); pre = (record { opened = []; facts = ((Rel relation.Le (Number (pos 1)) (Var 2 sort.Int)) ∷ []); locals = ((name_p, (Var 0 sort.Val)) ∷ []); items = ((Data (Var 2 sort.Int) (Var 0 sort.Val) (Of2 binary.Cons (Var 1 sort.Val) Nil)) ∷ []) }); post = (record { opened = []; facts = ((Rel relation.Eq (Var 3 sort.Val) (Var 1 sort.Val)) ∷ []); locals = []; items = ((Data (Var 2 sort.Int) (Var 0 sort.Val) (Of2 binary.Cons (Var 1 sort.Val) Nil)) ∷ []) }) }) ∷ (record { is_void = false; name = name_main; params = ([]); vars = []; pre = (record { opened = []; facts = ([]); locals = []; items = ((Data (Number (pos 64)) (Global name_x) (Of2 binary.Cons (Of unary.Vi (Number (pos 3))) Nil)) ∷ (Data (Number (pos 64)) (Global name_g) (Of2 binary.Cons (Of unary.Vi (Number (pos 3))) Nil)) ∷ []) }); post = (record { opened = (sort.List ∷ []); facts = ([]); locals = []; items = ((Data (Number (pos 64)) (Global name_g) (Var 1 sort.List)) ∷ (Data (Number (pos 64)) (Global name_x) (Var 1 sort.List)) ∷ []) }) }) ∷ []) }) (record { is_void = false; name = name_main; params = ([]); vars = []; pre = (record { opened = []; facts = ([]); locals = []; items = ((Data (Number (pos 64)) (Global name_x) (Of2 binary.Cons (Of unary.Vi (Number (pos 3))) Nil)) ∷ (Data (Number (pos 64)) (Global name_g) (Of2 binary.Cons (Of unary.Vi (Number (pos 3))) Nil)) ∷ []) }); post = (record { opened = (sort.List ∷ []); facts = ([]); locals = []; items = ((Data (Number (pos 64)) (Global name_g) (Var 1 sort.List)) ∷ (Data (Number (pos 64)) (Global name_x) (Var 1 sort.List)) ∷ []) }) }) (record { temps = (name_s ∷ name_t ∷ name_i ∷ name_x1 ∷ name_d0 ∷ name_p1 ∷ name_q1 ∷ []); body = (c.Then (c.Set 0 (c.Const 1)) (c.Then (c.Set 1 (c.Const 3)) (c.Then (c.Load 1 (root.Global name_g 1) c.Here) (c.Then (c.Malloc 5 3) (c.Then (c.If (c.Pointers (c.Temp 5) (c.Const 0) true) (c.Then (c.Return (Some (c.Const 0))) c.End) c.End) (c.Then (c.Store (root.Temp 5) (c.Offset 0 c.Here) (c.Const 1)) (c.Then (c.Load 1 (root.Temp 5) (c.Offset 0 c.Here)) (c.Then (c.Free (c.Temp 5)) (c.Then (c.Call (Some 0) name_get ((c.Address (root.Global name_x 1) c.Here) ∷ [])) (c.Then (c.Load 1 (root.Global name_x 1) c.Here) (c.Then (c.Return (Some (c.Temp 0))) c.End))))))))))) }) (s.Then 1 (s.Set ([]) ([])) s.NoBlock (s.Then 2 (s.Set ([]) ([])) s.NoBlock (s.Then 3 (s.Load 1 ([]) ([])) s.NoBlock (s.Then 4 (s.Share 0 (Number (pos 63)) ([])) s.NoBlock (s.Then 5 (s.Unshare 2 1 ([])) s.NoBlock (s.Then 6 (s.Malloc name_k1 ([]) ([])) (s.WithBlock (s.Then 7 (s.If ([]) ([]) ([]) ([])) (s.WithBlock (s.Then 8 (s.Return ((Of2 binary.Cons (Of unary.Vi (Number (pos 3))) Nil) ∷ []) ([]) ([])) s.NoBlock s.End) (s.WithBlock (s.Then 9 (s.Unshare 1 2 ([])) s.NoBlock (s.Then 10 (s.Absurd ([])) s.NoBlock s.End)) s.NoBlock)) s.End) (s.WithBlock (s.Then 11 (s.If (2 ∷ []) ([]) ([]) ([])) (s.WithBlock (s.Then 12 (s.Subst name_k1) s.NoBlock (s.Then 13 (s.Absurd ([])) s.NoBlock s.End)) (s.WithBlock (s.Then 14 (s.Store 2 ([]) ([])) s.NoBlock (s.Then 15 (s.Load 2 ([]) ([])) s.NoBlock (s.Then 16 (s.Free 2 3 ([])) s.NoBlock (s.Then 17 (s.Call ((Global name_x) ∷ (Of unary.Vi (Number (pos 3))) ∷ (Number (pos 64)) ∷ []) ([]) ([]) (name_k2 ∷ [])) s.NoBlock (s.Then 18 (s.Load 1 ([]) ([])) s.NoBlock (s.Then 19 (s.Return ((Of2 binary.Cons (Of unary.Vi (Number (pos 3))) Nil) ∷ []) ([]) ([])) s.NoBlock s.End)))))) s.NoBlock)) s.End) s.NoBlock)) s.End)))))) ≡ (RefusedAt 9 32 1)
unfolding computing
random_283 = refl

random_284 : body_verdict (record { predicates = ([]); specs = ((record { is_void = false; name = name_get; params = (name_p ∷ []); vars = ((name_v, sort.Val) ∷ (name_w, sort.Val) ∷ (name_s, sort.Int) ∷ []); pre = (record { opened = []; facts = ((Rel relation.Le (Number (pos 1)) (Var 2 sort.Int)) ∷ []); locals = ((name_p, (Var 0 sort.Val)) ∷ []); items = ((Data (Var 2 sort.Int) (Var 0 sort.Val) (Of2 binary.Cons (Var 1 sort.Val) Nil)) ∷ []) }); post = (record { opened = []; facts = ((Rel relation.Eq (Var 3 sort.Val) (Var 1 sort.Val)) ∷ []); locals = []; items = ((Data (Var 2 sort.Int) (Var 0 sort.Val) (Of2 binary.Cons (Var 1 sort.Val) Nil)) ∷ []) }) }) ∷ (record { is_void = false; name = name_main; params = ([]); vars = []; pre = (record { opened = []; facts = ([]); locals = []; items = ((Data (Number (pos 64)) (Global name_x) (Of2 binary.Cons (Of unary.Vi (Number (pos 3))) Nil)) ∷ (Data (Number (pos 64)) (Global name_g) (Of2 binary.Cons (Of unary.Vi (Number (pos 3))) Nil)) ∷ []) }); post = (record { opened = (sort.List ∷ []); facts = ([]); locals = []; items = ((Data (Number (pos 64)) (Global name_g) (Var 1 sort.List)) ∷ (Data (Number (pos 64)) (Global name_x) (Var 1 sort.List)) ∷ []) }) }) ∷ []) }) (record { is_void = false; name = name_main; params = ([]); vars = []; pre = (record { opened = []; facts = ([]); locals = []; items = ((Data (Number (pos 64)) (Global name_x) (Of2 binary.Cons (Of unary.Vi (Number (pos 3))) Nil)) ∷ (Data (Number (pos 64)) (Global name_g) (Of2 binary.Cons (Of unary.Vi (Number (pos 3))) Nil)) ∷ []) }); post = (record { opened = (sort.List ∷ []); facts = ([]); locals = []; items = ((Data (Number (pos 64)) (Global name_g) (Var 1 sort.List)) ∷ (Data (Number (pos 64)) (Global name_x) (Var 1 sort.List)) ∷ []) }) }) (record { temps = (name_s ∷ name_t ∷ name_i ∷ name_x1 ∷ name_d0 ∷ name_p1 ∷ name_q1 ∷ []); body = (c.Then (c.Set 0 (c.Const 1)) (c.Then (c.Set 1 (c.Const 3)) (c.Then (c.Load 1 (root.Global name_g 1) c.Here) (c.Then (c.Malloc 5 3) (c.Then (c.If (c.Pointers (c.Temp 5) (c.Const 0) true) (c.Then (c.Return (Some (c.Const 0))) c.End) c.End) (c.Then (c.Store (root.Temp 5) (c.Offset 0 c.Here) (c.Const 1)) (c.Then (c.Load 1 (root.Temp 5) (c.Offset 0 c.Here)) (c.Then (c.Free (c.Temp 5)) (c.Then (c.Call (Some 0) name_get ((c.Address (root.Global name_x 1) c.Here) ∷ [])) (c.Then (c.Load 1 (root.Global name_x 1) c.Here) (c.Then (c.Return (Some (c.Temp 0))) c.End))))))))))) }) (s.Then 1 (s.Set ([]) ([])) s.NoBlock (s.Then 2 (s.Set ([]) ([])) s.NoBlock (s.Then 3 (s.Load 1 ([]) ([])) s.NoBlock (s.Then 4 (s.Share 0 (Number (pos 63)) ([])) s.NoBlock (s.Then 5 (s.Unshare 2 1 ([])) s.NoBlock (s.Then 6 (s.Malloc name_k1 ([]) ([])) (s.WithBlock (s.Then 7 (s.If ([]) ([]) ([]) ([])) (s.WithBlock (s.Then 8 (s.Return ((Of2 binary.Cons (Of unary.Vi (Number (pos 3))) Nil) ∷ []) ([]) ([])) s.NoBlock s.End) (s.WithBlock (s.Then 9 (s.Share 1 (Number (pos 1)) ([])) s.NoBlock (s.Then 10 (s.Unshare 1 2 ([])) s.NoBlock (s.Then 11 (s.Absurd ([])) s.NoBlock s.End))) s.NoBlock)) s.End) (s.WithBlock (s.Then 12 (s.If (2 ∷ []) ([]) ([]) ([])) (s.WithBlock (s.Then 13 (s.Subst name_k1) s.NoBlock (s.Then 14 (s.Absurd ([])) s.NoBlock s.End)) (s.WithBlock (s.Then 15 (s.Store 2 ([]) ([])) s.NoBlock (s.Then 16 (s.Free 2 3 ([])) s.NoBlock (s.Then 17 (s.Call ((Global name_x) ∷ (Of unary.Vi (Number (pos 3))) ∷ (Number (pos 64)) ∷ []) ([]) ([]) (name_k2 ∷ [])) s.NoBlock (s.Then 18 (s.Load 1 ([]) ([])) s.NoBlock (s.Then 19 (s.Return ((Of2 binary.Cons (Of unary.Vi (Number (pos 3))) Nil) ∷ []) ([]) ([])) s.NoBlock s.End))))) s.NoBlock)) s.End) s.NoBlock)) s.End)))))) ≡ (RefusedAt 16 15 1)
unfolding computing
random_284 = refl

random_285 : body_verdict (record { predicates = ([]); specs = ((record { is_void = false; name = name_get; params = (name_p ∷ []); vars = ((name_v, sort.Val) ∷ (name_w, sort.Val) ∷ (name_s, sort.Int) ∷ []); pre = (record { opened = []; facts = ((Rel relation.Le (Number (pos 1)) (Var 2 sort.Int)) ∷ []); locals = ((name_p, (Var 0 sort.Val)) ∷ []); items = ((Data (Var 2 sort.Int) (Var 0 sort.Val) (Of2 binary.Cons (Var 1 sort.Val) Nil)) ∷ []) }); post = (record { opened = []; facts = ((Rel relation.Eq (Var 3 sort.Val) (Var 1 sort.Val)) ∷ []); locals = []; items = ((Data (Var 2 sort.Int) (Var 0 sort.Val) (Of2 binary.Cons (Var 1 sort.Val) Nil)) ∷ []) }) }) ∷ (record { is_void = false; name = name_main; params = ([]); vars = []; pre = (record { opened = []; facts = ([]); locals = []; items = ((Data (Number (pos 64)) (Global name_x) (Of2 binary.Cons (Of unary.Vi (Number (pos 3))) Nil)) ∷ (Data (Number (pos 64)) (Global name_g) (Of2 binary.Cons (Of unary.Vi (Number (pos 3))) Nil)) ∷ []) }); post = (record { opened = (sort.List ∷ []); facts = ([]); locals = []; items = ((Data (Number (pos 64)) (Global name_g) (Var 1 sort.List)) ∷ (Data (Number (pos 64)) (Global name_x) (Var 1 sort.List)) ∷ []) }) }) ∷ []) }) (record { is_void = false; name = name_main; params = ([]); vars = []; pre = (record { opened = []; facts = ([]); locals = []; items = ((Data (Number (pos 64)) (Global name_x) (Of2 binary.Cons (Of unary.Vi (Number (pos 3))) Nil)) ∷ (Data (Number (pos 64)) (Global name_g) (Of2 binary.Cons (Of unary.Vi (Number (pos 3))) Nil)) ∷ []) }); post = (record { opened = (sort.List ∷ []); facts = ([]); locals = []; items = ((Data (Number (pos 64)) (Global name_g) (Var 1 sort.List)) ∷ (Data (Number (pos 64)) (Global name_x) (Var 1 sort.List)) ∷ []) }) }) (record { temps = (name_s ∷ name_t ∷ name_i ∷ name_x1 ∷ name_d0 ∷ name_p1 ∷ name_q1 ∷ []); body = (c.Then (c.Set 0 (c.Const 1)) (c.Then (c.Set 1 (c.Const 3)) (c.Then (c.Load 1 (root.Global name_g 1) c.Here) (c.Then (c.Malloc 5 3) (c.Then (c.If (c.Pointers (c.Temp 5) (c.Const 0) true) (c.Then (c.Return (Some (c.Const 0))) c.End) c.End) (c.Then (c.Store (root.Temp 5) (c.Offset 0 c.Here) (c.Const 1)) (c.Then (c.Load 1 (root.Temp 5) (c.Offset 0 c.Here)) (c.Then (c.Free (c.Temp 5)) (c.Then (c.Call (Some 0) name_get ((c.Address (root.Global name_x 1) c.Here) ∷ [])) (c.Then (c.Load 1 (root.Global name_x 1) c.Here) (c.Then (c.Return (Some (c.Temp 0))) c.End))))))))))) }) (s.Then 1 (s.Set ([]) ([])) s.NoBlock (s.Then 2 (s.Set ([]) ([])) s.NoBlock (s.Then 3 (s.Load 1 ([]) ([])) s.NoBlock (s.Then 4 (s.Share 0 (Number (pos 63)) ([])) s.NoBlock (s.Then 5 (s.Unshare 2 1 ([])) s.NoBlock (s.Then 6 (s.Malloc name_x ([]) ([])) (s.WithBlock (s.Then 7 (s.If ([]) ([]) ([]) ([])) (s.WithBlock (s.Then 8 (s.Return ((Of2 binary.Cons (Of unary.Vi (Number (pos 3))) Nil) ∷ []) ([]) ([])) s.NoBlock s.End) (s.WithBlock (s.Then 9 (s.Share 1 (Number (pos 1)) ([])) s.NoBlock (s.Then 10 (s.Unshare 1 2 ([])) s.NoBlock (s.Then 11 (s.Absurd ([])) s.NoBlock s.End))) s.NoBlock)) s.End) (s.WithBlock (s.Then 12 (s.If (2 ∷ []) ([]) ([]) ([])) (s.WithBlock (s.Then 13 (s.Subst name_k1) s.NoBlock (s.Then 14 (s.Absurd ([])) s.NoBlock s.End)) (s.WithBlock (s.Then 15 (s.Store 2 ([]) ([])) s.NoBlock (s.Then 16 (s.Load 2 ([]) ([])) s.NoBlock (s.Then 17 (s.Free 2 3 ([])) s.NoBlock (s.Then 18 (s.Call ((Global name_x) ∷ (Of unary.Vi (Number (pos 3))) ∷ (Number (pos 64)) ∷ []) ([]) ([]) (name_k2 ∷ [])) s.NoBlock (s.Then 19 (s.Load 1 ([]) ([])) s.NoBlock (s.Then 20 (s.Return ((Of2 binary.Cons (Of unary.Vi (Number (pos 3))) Nil) ∷ []) ([]) ([])) s.NoBlock s.End)))))) s.NoBlock)) s.End) s.NoBlock)) s.End)))))) ≡ (RefusedAt 13 27 1)
unfolding computing
random_285 = refl

random_286 : body_verdict (record { predicates = ([]); specs = ((record { is_void = false; name = name_get; params = (name_p ∷ []); vars = ((name_v, sort.Val) ∷ (name_w, sort.Val) ∷ (name_s, sort.Int) ∷ []); pre = (record { opened = []; facts = ((Rel relation.Le (Number (pos 1)) (Var 2 sort.Int)) ∷ []); locals = ((name_p, (Var 0 sort.Val)) ∷ []); items = ((Data (Var 2 sort.Int) (Var 0 sort.Val) (Of2 binary.Cons (Var 1 sort.Val) Nil)) ∷ []) }); post = (record { opened = []; facts = ((Rel relation.Eq (Var 3 sort.Val) (Var 1 sort.Val)) ∷ []); locals = []; items = ((Data (Var 2 sort.Int) (Var 0 sort.Val) (Of2 binary.Cons (Var 1 sort.Val) Nil)) ∷ []) }) }) ∷ (record { is_void = false; name = name_main; params = ([]); vars = []; pre = (record { opened = []; facts = ([]); locals = []; items = ((Data (Number (pos 64)) (Global name_x) (Of2 binary.Cons (Of unary.Vi (Number (pos 3))) Nil)) ∷ (Data (Number (pos 64)) (Global name_g) (Of2 binary.Cons (Of unary.Vi (Number (pos 3))) Nil)) ∷ []) }); post = (record { opened = (sort.List ∷ []); facts = ([]); locals = []; items = ((Data (Number (pos 64)) (Global name_g) (Var 1 sort.List)) ∷ (Data (Number (pos 64)) (Global name_x) (Var 1 sort.List)) ∷ []) }) }) ∷ []) }) (record { is_void = false; name = name_main; params = ([]); vars = []; pre = (record { opened = []; facts = ([]); locals = []; items = ((Data (Number (pos 64)) (Global name_x) (Of2 binary.Cons (Of unary.Vi (Number (pos 3))) Nil)) ∷ (Data (Number (pos 64)) (Global name_g) (Of2 binary.Cons (Of unary.Vi (Number (pos 3))) Nil)) ∷ []) }); post = (record { opened = (sort.List ∷ []); facts = ([]); locals = []; items = ((Data (Number (pos 64)) (Global name_g) (Var 1 sort.List)) ∷ (Data (Number (pos 64)) (Global name_x) (Var 1 sort.List)) ∷ []) }) }) (record { temps = (name_s ∷ name_t ∷ name_i ∷ name_x1 ∷ name_d0 ∷ name_p1 ∷ name_q1 ∷ []); body = (c.Then (c.Set 0 (c.Const 1)) (c.Then (c.Set 1 (c.Const 3)) (c.Then (c.Load 1 (root.Global name_g 1) c.Here) (c.Then (c.Malloc 5 3) (c.Then (c.If (c.Pointers (c.Temp 5) (c.Const 0) true) (c.Then (c.Return (Some (c.Const 0))) c.End) c.End) (c.Then (c.Store (root.Temp 5) (c.Offset 0 c.Here) (c.Const 1)) (c.Then (c.Load 1 (root.Temp 5) (c.Offset 0 c.Here)) (c.Then (c.Free (c.Temp 5)) (c.Then (c.Call (Some 0) name_get ((c.Address (root.Global name_x 1) c.Here) ∷ [])) (c.Then (c.Load 1 (root.Global name_x 1) c.Here) (c.Then (c.Return (Some (c.Temp 0))) c.End))))))))))) }) (s.Then 1 (s.Set ([]) ([])) s.NoBlock (s.Then 2 (s.Set ([]) ([])) s.NoBlock (s.Then 3 (s.Load 1 ([]) ([])) s.NoBlock (s.Then 4 (s.Share 0 (Number (pos 63)) ([])) s.NoBlock (s.Then 5 (s.Unshare 2 1 ([])) s.NoBlock (s.Then 6 (s.Malloc name_k1 ([]) ([])) (s.WithBlock (s.Then 7 (s.If ([]) ([]) ([]) ([])) (s.WithBlock (s.Then 8 (s.Return ((Of2 binary.Cons (Of unary.Vi (Number (pos 3))) Nil) ∷ []) ([]) ([])) s.NoBlock s.End) (s.WithBlock (s.Then 9 (s.Share 1 (Number (pos 1)) ([])) s.NoBlock (s.Then 10 (s.Unshare 1 2 ([])) s.NoBlock (s.Then 11 (s.Absurd ([])) s.NoBlock s.End))) s.NoBlock)) s.End) (s.WithBlock (s.Then 12 (s.If (2 ∷ []) ([]) ([]) ([])) (s.WithBlock (s.Then 13 (s.Subst name_k1) s.NoBlock (s.Then 14 (s.Absurd ([])) s.NoBlock s.End)) (s.WithBlock (s.Then 15 (s.Store 2 ([]) ([])) s.NoBlock (s.Then 16 (s.Load 2 ([]) ([])) s.NoBlock (s.Then 17 (s.Free 2 3 ([])) s.NoBlock (s.Then 18 (s.Call ((Global name_k2) ∷ (Of unary.Vi (Number (pos 3))) ∷ (Number (pos 64)) ∷ []) ([]) ([]) (name_k2 ∷ [])) s.NoBlock (s.Then 19 (s.Load 1 ([]) ([])) s.NoBlock (s.Then 20 (s.Return ((Of2 binary.Cons (Of unary.Vi (Number (pos 3))) Nil) ∷ []) ([]) ([])) s.NoBlock s.End)))))) s.NoBlock)) s.End) s.NoBlock)) s.End)))))) ≡ (RefusedAt 18 13 4)
unfolding computing
random_286 = refl

random_287 : body_verdict (record { predicates = ([]); specs = ((record { is_void = false; name = name_get; params = (name_p ∷ []); vars = ((name_v, sort.Val) ∷ (name_w, sort.Val) ∷ (name_s, sort.Int) ∷ []); pre = (record { opened = []; facts = ((Rel relation.Le (Number (pos 1)) (Var 2 sort.Int)) ∷ []); locals = ((name_p, (Var 0 sort.Val)) ∷ []); items = ((Data (Var 2 sort.Int) (Var 0 sort.Val) (Of2 binary.Cons (Var 1 sort.Val) Nil)) ∷ []) }); post = (record { opened = []; facts = ((Rel relation.Eq (Var 3 sort.Val) (Var 1 sort.Val)) ∷ []); locals = []; items = ((Data (Var 2 sort.Int) (Var 0 sort.Val) (Of2 binary.Cons (Var 1 sort.Val) Nil)) ∷ []) }) }) ∷ (record { is_void = false; name = name_main; params = ([]); vars = []; pre = (record { opened = []; facts = ([]); locals = []; items = ((Data (Number (pos 64)) (Global name_x) (Of2 binary.Cons (Of unary.Vi (Number (pos 3))) Nil)) ∷ (Data (Number (pos 64)) (Global name_g) (Of2 binary.Cons (Of unary.Vi (Number (pos 3))) Nil)) ∷ []) }); post = (record { opened = (sort.List ∷ []); facts = ([]); locals = []; items = ((Data (Number (pos 64)) (Global name_g) (Var 1 sort.List)) ∷ (Data (Number (pos 64)) (Global name_x) (Var 1 sort.List)) ∷ []) }) }) ∷ []) }) (record { is_void = false; name = name_main; params = ([]); vars = []; pre = (record { opened = []; facts = ([]); locals = []; items = ((Data (Number (pos 64)) (Global name_x) (Of2 binary.Cons (Of unary.Vi (Number (pos 3))) Nil)) ∷ (Data (Number (pos 64)) (Global name_g) (Of2 binary.Cons (Of unary.Vi (Number (pos 3))) Nil)) ∷ []) }); post = (record { opened = (sort.List ∷ []); facts = ([]); locals = []; items = ((Data (Number (pos 64)) (Global name_g) (Var 1 sort.List)) ∷ (Data (Number (pos 64)) (Global name_x) (Var 1 sort.List)) ∷ []) }) }) (record { temps = (name_s ∷ name_t ∷ name_i ∷ name_x1 ∷ name_d0 ∷ name_p1 ∷ name_q1 ∷ []); body = (c.Then (c.Set 0 (c.Const 1)) (c.Then (c.Set 1 (c.Const 3)) (c.Then (c.Load 1 (root.Global name_g 1) c.Here) (c.Then (c.Malloc 5 3) (c.Then (c.If (c.Pointers (c.Temp 5) (c.Const 0) true) (c.Then (c.Return (Some (c.Const 0))) c.End) c.End) (c.Then (c.Store (root.Temp 5) (c.Offset 0 c.Here) (c.Const 1)) (c.Then (c.Load 1 (root.Temp 5) (c.Offset 0 c.Here)) (c.Then (c.Free (c.Temp 5)) (c.Then (c.Call (Some 0) name_get ((c.Address (root.Global name_x 1) c.Here) ∷ [])) (c.Then (c.Load 1 (root.Global name_x 1) c.Here) (c.Then (c.Return (Some (c.Temp 0))) c.End))))))))))) }) (s.Then 1 (s.Set ([]) ([])) s.NoBlock (s.Then 2 (s.Set ([]) ([])) s.NoBlock (s.Then 3 (s.Load 1 ([]) ([])) s.NoBlock (s.Then 4 (s.Unshare 2 1 ([])) s.NoBlock (s.Then 5 (s.Malloc name_k1 ([]) ([])) (s.WithBlock (s.Then 6 (s.If ([]) ([]) ([]) ([])) (s.WithBlock (s.Then 7 (s.Return ((Of2 binary.Cons (Of unary.Vi (Number (pos 3))) Nil) ∷ []) ([]) ([])) s.NoBlock s.End) (s.WithBlock (s.Then 8 (s.Share 1 (Number (pos 1)) ([])) s.NoBlock (s.Then 9 (s.Unshare 1 2 ([])) s.NoBlock (s.Then 10 (s.Absurd ([])) s.NoBlock s.End))) s.NoBlock)) s.End) (s.WithBlock (s.Then 11 (s.If (2 ∷ []) ([]) ([]) ([])) (s.WithBlock (s.Then 12 (s.Subst name_k1) s.NoBlock (s.Then 13 (s.Absurd ([])) s.NoBlock s.End)) (s.WithBlock (s.Then 14 (s.Store 2 ([]) ([])) s.NoBlock (s.Then 15 (s.Load 2 ([]) ([])) s.NoBlock (s.Then 16 (s.Free 2 3 ([])) s.NoBlock (s.Then 17 (s.Call ((Global name_x) ∷ (Of unary.Vi (Number (pos 3))) ∷ (Number (pos 64)) ∷ []) ([]) ([]) (name_k2 ∷ [])) s.NoBlock (s.Then 18 (s.Load 1 ([]) ([])) s.NoBlock (s.Then 19 (s.Return ((Of2 binary.Cons (Of unary.Vi (Number (pos 3))) Nil) ∷ []) ([]) ([])) s.NoBlock s.End)))))) s.NoBlock)) s.End) s.NoBlock)) s.End))))) ≡ (RefusedAt 4 32 1)
unfolding computing
random_287 = refl

random_288 : body_verdict (record { predicates = ([]); specs = ((record { is_void = false; name = name_get; params = (name_p ∷ []); vars = ((name_v, sort.Val) ∷ (name_w, sort.Val) ∷ (name_s, sort.Int) ∷ []); pre = (record { opened = []; facts = ((Rel relation.Le (Number (pos 1)) (Var 2 sort.Int)) ∷ []); locals = ((name_p, (Var 0 sort.Val)) ∷ []); items = ((Data (Var 2 sort.Int) (Var 0 sort.Val) (Of2 binary.Cons (Var 1 sort.Val) Nil)) ∷ []) }); post = (record { opened = []; facts = ((Rel relation.Eq (Var 3 sort.Val) (Var 1 sort.Val)) ∷ []); locals = []; items = ((Data (Var 2 sort.Int) (Var 0 sort.Val) (Of2 binary.Cons (Var 1 sort.Val) Nil)) ∷ []) }) }) ∷ (record { is_void = false; name = name_main; params = ([]); vars = []; pre = (record { opened = []; facts = ([]); locals = []; items = ((Data (Number (pos 64)) (Global name_x) (Of2 binary.Cons (Of unary.Vi (Number (pos 3))) Nil)) ∷ (Data (Number (pos 64)) (Global name_g) (Of2 binary.Cons (Of unary.Vi (Number (pos 3))) Nil)) ∷ []) }); post = (record { opened = (sort.List ∷ []); facts = ([]); locals = []; items = ((Data (Number (pos 64)) (Global name_g) (Var 1 sort.List)) ∷ (Data (Number (pos 64)) (Global name_x) (Var 1 sort.List)) ∷ []) }) }) ∷ []) }) (record { is_void = false; name = name_main; params = ([]); vars = []; pre = (record { opened = []; facts = ([]); locals = []; items = ((Data (Number (pos 64)) (Global name_x) (Of2 binary.Cons (Of unary.Vi (Number (pos 3))) Nil)) ∷ (Data (Number (pos 64)) (Global name_g) (Of2 binary.Cons (Of unary.Vi (Number (pos 3))) Nil)) ∷ []) }); post = (record { opened = (sort.List ∷ []); facts = ([]); locals = []; items = ((Data (Number (pos 64)) (Global name_g) (Var 1 sort.List)) ∷ (Data (Number (pos 64)) (Global name_x) (Var 1 sort.List)) ∷ []) }) }) (record { temps = (name_s ∷ name_t ∷ name_i ∷ name_x1 ∷ name_d0 ∷ name_p1 ∷ name_q1 ∷ []); body = (c.Then (c.Set 0 (c.Const 1)) (c.Then (c.Set 1 (c.Const 3)) (c.Then (c.Load 1 (root.Global name_g 1) c.Here) (c.Then (c.Malloc 5 3) (c.Then (c.If (c.Pointers (c.Temp 5) (c.Const 0) true) (c.Then (c.Return (Some (c.Const 0))) c.End) c.End) (c.Then (c.Store (root.Temp 5) (c.Offset 0 c.Here) (c.Const 1)) (c.Then (c.Load 1 (root.Temp 5) (c.Offset 0 c.Here)) (c.Then (c.Free (c.Temp 5)) (c.Then (c.Call (Some 0) name_get ((c.Address (root.Global name_x 1) c.Here) ∷ [])) (c.Then (c.Load 1 (root.Global name_x 1) c.Here) (c.Then (c.Return (Some (c.Temp 0))) c.End))))))))))) }) (s.Then 1 (s.Set ([]) ([])) s.NoBlock (s.Then 2 (s.Set ([]) ([])) s.NoBlock (s.Then 3 (s.Load 1 ([]) ([])) s.NoBlock (s.Then 4 (s.Share 0 (Number (pos 63)) ([])) s.NoBlock (s.Then 5 (s.Unshare 2 1 ([])) s.NoBlock (s.Then 6 (s.Malloc name_k1 ([]) ([])) (s.WithBlock (s.Then 7 (s.If ([]) ([]) ([]) ([])) (s.WithBlock (s.Then 8 (s.Return ((Of2 binary.Cons (Of unary.Vi (Number (pos 3))) Nil) ∷ []) ([]) ([])) s.NoBlock s.End) (s.WithBlock (s.Then 9 (s.Share 1 (Number (pos 1)) ([])) s.NoBlock (s.Then 10 (s.Unshare 1 2 ([])) s.NoBlock (s.Then 11 (s.Absurd ([])) s.NoBlock s.End))) s.NoBlock)) s.End) (s.WithBlock (s.Then 12 (s.If (2 ∷ []) ([]) ([]) ([])) (s.WithBlock (s.Then 13 (s.Subst name_k1) s.NoBlock (s.Then 14 (s.Absurd ([])) s.NoBlock s.End)) (s.WithBlock (s.Then 15 (s.Store 2 ([]) ([])) s.NoBlock (s.Then 16 (s.Load 2 ([]) ([])) s.NoBlock (s.Then 17 (s.Call ((Global name_x) ∷ (Of unary.Vi (Number (pos 3))) ∷ (Number (pos 64)) ∷ []) ([]) ([]) (name_k2 ∷ [])) s.NoBlock (s.Then 18 (s.Load 1 ([]) ([])) s.NoBlock (s.Then 19 (s.Return ((Of2 binary.Cons (Of unary.Vi (Number (pos 3))) Nil) ∷ []) ([]) ([])) s.NoBlock s.End))))) s.NoBlock)) s.End) s.NoBlock)) s.End)))))) ≡ (RefusedAt 17 13 1)
unfolding computing
random_288 = refl

random_289 : body_verdict (record { predicates = ([]); specs = ((record { is_void = true; name = name_put; params = (name_p ∷ name_k ∷ []); vars = ((name_v, sort.Val) ∷ (name_w, sort.Val) ∷ (name_o, sort.Val) ∷ []); pre = (record { opened = []; facts = ([]); locals = ((name_p, (Var 0 sort.Val)) ∷ (name_k, (Var 1 sort.Val)) ∷ []); items = ((Data (Number (pos 64)) (Var 0 sort.Val) (Of2 binary.Cons (Var 2 sort.Val) Nil)) ∷ []) }); post = (record { opened = []; facts = ([]); locals = []; items = ((Data (Number (pos 64)) (Var 0 sort.Val) (Of2 binary.Cons (Var 1 sort.Val) Nil)) ∷ []) }) }) ∷ (record { is_void = false; name = name_main; params = ([]); vars = []; pre = (record { opened = []; facts = ([]); locals = []; items = ((Data (Number (pos 64)) (Global name_x) (Of2 binary.Cons (Of unary.Vi (Number (pos 3))) Nil)) ∷ (Data (Number (pos 64)) (Global name_arr) (Of2 binary.Cons (Of unary.Vi (Number (pos 1))) (Of2 binary.Cons (Of unary.Vi (Number (pos 2))) (Of2 binary.Cons (Of unary.Vi (Number (pos 0))) (Of2 binary.Cons (Of unary.Vi (Number (pos 0))) Nil))))) ∷ []) }); post = (record { opened = (sort.List ∷ sort.List ∷ []); facts = ((IsInt (Var 0 sort.Val)) ∷ []); locals = []; items = ((Data (Number (pos 64)) (Global name_x) (Var 1 sort.List)) ∷ (Data (Number (pos 64)) (Global name_arr) (Var 2 sort.List)) ∷ []) }) }) ∷ []) }) (record { is_void = false; name = name_main; params = ([]); vars = []; pre = (record { opened = []; facts = ([]); locals = []; items = ((Data (Number (pos 64)) (Global name_x) (Of2 binary.Cons (Of unary.Vi (Number (pos 3))) Nil)) ∷ (Data (Number (pos 64)) (Global name_arr) (Of2 binary.Cons (Of unary.Vi (Number (pos 1))) (Of2 binary.Cons (Of unary.Vi (Number (pos 2))) (Of2 binary.Cons (Of unary.Vi (Number (pos 0))) (Of2 binary.Cons (Of unary.Vi (Number (pos 0))) Nil))))) ∷ []) }); post = (record { opened = (sort.List ∷ sort.List ∷ []); facts = ((IsInt (Var 0 sort.Val)) ∷ []); locals = []; items = ((Data (Number (pos 64)) (Global name_x) (Var 1 sort.List)) ∷ (Data (Number (pos 64)) (Global name_arr) (Var 2 sort.List)) ∷ []) }) }) (record { temps = (name_s ∷ name_t ∷ name_i ∷ name_x1 ∷ name_d0 ∷ name_p1 ∷ name_q1 ∷ []); body = (c.Then (c.Set 0 (c.Const 3)) (c.Then (c.Set 1 (c.Const 3)) (c.Then (c.Call None name_put ((c.Address (root.Global name_x 1) c.Here) ∷ (c.Const 7) ∷ [])) (c.Then (c.Store (root.Global name_arr 4) (c.Index kind.Signed (c.Const 0) c.Here) (c.Const 2)) (c.Then (c.If (c.Nonzero kind.Signed (c.Binary two.Ge kind.Signed (c.Temp 1) (c.Const 1))) (c.Then (c.Set 0 (c.Binary two.Add kind.Signed (c.Const 0) (c.Const 1))) (c.Then (c.Set 0 (c.Temp 1)) c.End)) c.End) (c.Then (c.Return (Some (c.Binary two.Add kind.Signed (c.Const 1) (c.Const 2)))) c.End)))))) }) (s.Then 1 (s.Set ([]) ([])) s.NoBlock (s.Then 2 (s.Set ([]) ([])) s.NoBlock (s.Then 3 (s.Call ((Global name_x) ∷ (Of unary.Vi (Number (pos 7))) ∷ (Of unary.Vi (Number (pos 0))) ∷ []) ([]) ([]) ([])) s.NoBlock (s.Then 4 (s.Block 0 (record { opened = []; facts = ([]); locals = ((name_s, (Of unary.Vi (Number (pos 3)))) ∷ (name_t, (Of unary.Vi (Number (pos 3)))) ∷ []); items = ((Data (Number (pos 64)) (Global name_arr) (Of2 binary.Cons (Of unary.Vi (Number (pos 1))) (Of2 binary.Cons (Of unary.Vi (Number (pos 3))) (Of2 binary.Cons (Of unary.Vi (Number (pos 0))) (Of2 binary.Cons (Of unary.Vi (Number (pos 0))) Nil))))) ∷ (Data (Number (pos 64)) (Global name_x) (Of2 binary.Cons (Of unary.Vi (Number (pos 7))) Nil)) ∷ []) }) ([]) ([])) (s.WithBlock (s.Then 5 (s.Fall ([]) ([])) s.NoBlock s.End) s.NoBlock) (s.Then 6 (s.Bounds 1 None ([])) s.NoBlock (s.Then 7 (s.Store 0 ([]) ([])) s.NoBlock (s.Then 8 (s.If ([]) ([]) ([]) ([])) (s.WithBlock (s.Then 9 (s.Share 0 (Number (pos 32)) ([])) s.NoBlock (s.Then 10 (s.Unshare 1 2 ([])) s.NoBlock (s.Then 11 (s.Forget (forgotten.Prop 3)) s.NoBlock (s.Then 12 (s.Set ([]) ([])) s.NoBlock (s.Then 13 (s.Set ([]) ([])) s.NoBlock (s.Then 14 (s.Block 0 (record { opened = []; facts = ([]); locals = ((name_s, (Of unary.Vi (Number (pos 3)))) ∷ (name_t, (Of unary.Vi (Number (pos 3)))) ∷ []); items = ((Data (Number (pos 64)) (Global name_x) (Of2 binary.Cons (Of unary.Vi (Number (pos 7))) Nil)) ∷ (Data (Number (pos 64)) (Global name_arr) (Of2 binary.Cons (Of unary.Vi (Number (pos 2))) (Of2 binary.Cons (Of unary.Vi (Number (pos 2))) (Of2 binary.Cons (Of unary.Vi (Number (pos 0))) (Of2 binary.Cons (Of unary.Vi (Number (pos 0))) Nil))))) ∷ []) }) ([]) ([])) (s.WithBlock (s.Then 15 (s.Fall ([]) ([])) s.NoBlock s.End) s.NoBlock) (s.Then 16 (s.Return ((Of2 binary.Cons (Of unary.Vi (Number (pos 7))) Nil) ∷ (Of2 binary.Cons (Of unary.Vi (Number (pos 2))) (Of2 binary.Cons (Of unary.Vi (Number (pos 2))) (Of2 binary.Cons (Of unary.Vi (Number (pos 0))) (Of2 binary.Cons (Of unary.Vi (Number (pos 0))) Nil)))) ∷ []) ([]) ([])) s.NoBlock s.End))))))) (s.WithBlock (s.Then 17 (s.Absurd ([])) s.NoBlock s.End) s.NoBlock)) s.End))))))) ≡ (RefusedAt 3 13 5)
unfolding computing
random_289 = refl

random_290 : body_verdict (record { predicates = ([]); specs = ((record { is_void = true; name = name_put; params = (name_p ∷ name_k ∷ []); vars = ((name_v, sort.Val) ∷ (name_w, sort.Val) ∷ (name_o, sort.Val) ∷ []); pre = (record { opened = []; facts = ([]); locals = ((name_p, (Var 0 sort.Val)) ∷ (name_k, (Var 1 sort.Val)) ∷ []); items = ((Data (Number (pos 64)) (Var 0 sort.Val) (Of2 binary.Cons (Var 2 sort.Val) Nil)) ∷ []) }); post = (record { opened = []; facts = ([]); locals = []; items = ((Data (Number (pos 64)) (Var 0 sort.Val) (Of2 binary.Cons (Var 1 sort.Val) Nil)) ∷ []) }) }) ∷ (record { is_void = false; name = name_main; params = ([]); vars = []; pre = (record { opened = []; facts = ([]); locals = []; items = ((Data (Number (pos 64)) (Global name_x) (Of2 binary.Cons (Of unary.Vi (Number (pos 3))) Nil)) ∷ (Data (Number (pos 64)) (Global name_arr) (Of2 binary.Cons (Of unary.Vi (Number (pos 1))) (Of2 binary.Cons (Of unary.Vi (Number (pos 2))) (Of2 binary.Cons (Of unary.Vi (Number (pos 0))) (Of2 binary.Cons (Of unary.Vi (Number (pos 0))) Nil))))) ∷ []) }); post = (record { opened = (sort.List ∷ sort.List ∷ []); facts = ((IsInt (Var 0 sort.Val)) ∷ []); locals = []; items = ((Data (Number (pos 64)) (Global name_x) (Var 1 sort.List)) ∷ (Data (Number (pos 64)) (Global name_arr) (Var 2 sort.List)) ∷ []) }) }) ∷ []) }) (record { is_void = false; name = name_main; params = ([]); vars = []; pre = (record { opened = []; facts = ([]); locals = []; items = ((Data (Number (pos 64)) (Global name_x) (Of2 binary.Cons (Of unary.Vi (Number (pos 3))) Nil)) ∷ (Data (Number (pos 64)) (Global name_arr) (Of2 binary.Cons (Of unary.Vi (Number (pos 1))) (Of2 binary.Cons (Of unary.Vi (Number (pos 2))) (Of2 binary.Cons (Of unary.Vi (Number (pos 0))) (Of2 binary.Cons (Of unary.Vi (Number (pos 0))) Nil))))) ∷ []) }); post = (record { opened = (sort.List ∷ sort.List ∷ []); facts = ((IsInt (Var 0 sort.Val)) ∷ []); locals = []; items = ((Data (Number (pos 64)) (Global name_x) (Var 1 sort.List)) ∷ (Data (Number (pos 64)) (Global name_arr) (Var 2 sort.List)) ∷ []) }) }) (record { temps = (name_s ∷ name_t ∷ name_i ∷ name_x1 ∷ name_d0 ∷ name_p1 ∷ name_q1 ∷ []); body = (c.Then (c.Set 0 (c.Const 3)) (c.Then (c.Set 1 (c.Const 3)) (c.Then (c.Call None name_put ((c.Address (root.Global name_x 1) c.Here) ∷ (c.Const 7) ∷ [])) (c.Then (c.Store (root.Global name_arr 4) (c.Index kind.Signed (c.Const 0) c.Here) (c.Const 2)) (c.Then (c.If (c.Nonzero kind.Signed (c.Binary two.Ge kind.Signed (c.Temp 1) (c.Const 1))) (c.Then (c.Set 0 (c.Binary two.Add kind.Signed (c.Const 0) (c.Const 1))) (c.Then (c.Set 0 (c.Temp 1)) c.End)) c.End) (c.Then (c.Return (Some (c.Binary two.Add kind.Signed (c.Const 1) (c.Const 2)))) c.End)))))) }) (s.Then 1 (s.Set ([]) ([])) s.NoBlock (s.Then 2 (s.Set ([]) ([])) s.NoBlock (s.Then 3 (s.Call ((Global name_x) ∷ (Of unary.Vi (Number (pos 7))) ∷ (Of unary.Vi (Number (pos 3))) ∷ []) ([]) ([]) ([])) s.NoBlock (s.Then 4 (s.Block 0 (record { opened = []; facts = ([]); locals = ((name_s, (Of unary.Vi (Number (pos 3)))) ∷ (name_t, (Of unary.Vi (Number (pos 3)))) ∷ []); items = ((Data (Number (pos 64)) (Global name_arr) (Of2 binary.Cons (Of unary.Vi (Number (pos 1))) (Of2 binary.Cons (Of unary.Vi (Number (pos 2))) (Of2 binary.Cons (Of unary.Vi (Number (pos 0))) (Of2 binary.Cons (Of unary.Vi (Number (pos 0))) Nil))))) ∷ (Data (Number (pos 64)) (Global name_x) (Of2 binary.Cons (Of unary.Vi (Number (pos 7))) Nil)) ∷ []) }) ([]) ([])) (s.WithBlock (s.Then 5 (s.Fall ([]) ([])) s.NoBlock s.End) s.NoBlock) (s.Then 6 (s.Bounds 1 None ([])) s.NoBlock (s.Then 7 (s.Store 0 ([]) ([])) s.NoBlock (s.Then 8 (s.If ([]) ([]) ([]) ([])) (s.WithBlock (s.Then 9 (s.Share 0 (Number (pos 32)) ([])) s.NoBlock (s.Then 10 (s.Unshare 1 2 ([])) s.NoBlock (s.Then 11 (s.Forget (forgotten.Prop 3)) s.NoBlock (s.Then 12 (s.Set ([]) ([])) s.NoBlock (s.Then 13 (s.Set ([]) ([])) s.NoBlock (s.Then 14 (s.Block 0 (record { opened = []; facts = ([]); locals = ((name_s, (Of unary.Vi (Number (pos 3)))) ∷ (name_t, (Of unary.Vi (Number (pos 3)))) ∷ []); items = ((Data (Number (pos 64)) (Global name_x) (Of2 binary.Cons (Of unary.Vi (Number (pos 7))) Nil)) ∷ (Data (Number (pos 64)) (Global name_arr) (Of2 binary.Cons (Of unary.Vi (Number (pos 2))) (Of2 binary.Cons (Of unary.Vi (Number (pos 2))) (Of2 binary.Cons (Of unary.Vi (Number (pos 0))) (Of2 binary.Cons (Of unary.Vi (Number (pos 0))) Nil))))) ∷ []) }) ([]) ([])) (s.WithBlock (s.Then 15 (s.Fall ([]) ([])) s.NoBlock s.End) s.NoBlock) (s.Then 16 (s.If ([]) ([]) ([]) ([])) (s.WithBlock s.End (s.WithBlock s.End s.NoBlock)) s.End))))))) (s.WithBlock (s.Then 17 (s.Absurd ([])) s.NoBlock s.End) s.NoBlock)) s.End))))))) ≡ (RefusedAt 16 5 1)
unfolding computing
random_290 = refl

random_291 : body_verdict (record { predicates = ([]); specs = ((record { is_void = true; name = name_put; params = (name_p ∷ name_k ∷ []); vars = ((name_v, sort.Val) ∷ (name_w, sort.Val) ∷ (name_o, sort.Val) ∷ []); pre = (record { opened = []; facts = ([]); locals = ((name_p, (Var 0 sort.Val)) ∷ (name_k, (Var 1 sort.Val)) ∷ []); items = ((Data (Number (pos 64)) (Var 0 sort.Val) (Of2 binary.Cons (Var 2 sort.Val) Nil)) ∷ []) }); post = (record { opened = []; facts = ([]); locals = []; items = ((Data (Number (pos 64)) (Var 0 sort.Val) (Of2 binary.Cons (Var 1 sort.Val) Nil)) ∷ []) }) }) ∷ (record { is_void = false; name = name_main; params = ([]); vars = []; pre = (record { opened = []; facts = ([]); locals = []; items = ((Data (Number (pos 64)) (Global name_x) (Of2 binary.Cons (Of unary.Vi (Number (pos 3))) Nil)) ∷ (Data (Number (pos 64)) (Global name_arr) (Of2 binary.Cons (Of unary.Vi (Number (pos 1))) (Of2 binary.Cons (Of unary.Vi (Number (pos 2))) (Of2 binary.Cons (Of unary.Vi (Number (pos 0))) (Of2 binary.Cons (Of unary.Vi (Number (pos 0))) Nil))))) ∷ []) }); post = (record { opened = (sort.List ∷ sort.List ∷ []); facts = ((IsInt (Var 0 sort.Val)) ∷ []); locals = []; items = ((Data (Number (pos 64)) (Global name_x) (Var 1 sort.List)) ∷ (Data (Number (pos 64)) (Global name_arr) (Var 2 sort.List)) ∷ []) }) }) ∷ []) }) (record { is_void = false; name = name_main; params = ([]); vars = []; pre = (record { opened = []; facts = ([]); locals = []; items = ((Data (Number (pos 64)) (Global name_x) (Of2 binary.Cons (Of unary.Vi (Number (pos 3))) Nil)) ∷ (Data (Number (pos 64)) (Global name_arr) (Of2 binary.Cons (Of unary.Vi (Number (pos 1))) (Of2 binary.Cons (Of unary.Vi (Number (pos 2))) (Of2 binary.Cons (Of unary.Vi (Number (pos 0))) (Of2 binary.Cons (Of unary.Vi (Number (pos 0))) Nil))))) ∷ []) }); post = (record { opened = (sort.List ∷ sort.List ∷ []); facts = ((IsInt (Var 0 sort.Val)) ∷ []); locals = []; items = ((Data (Number (pos 64)) (Global name_x) (Var 1 sort.List)) ∷ (Data (Number (pos 64)) (Global name_arr) (Var 2 sort.List)) ∷ []) }) }) (record { temps = (name_s ∷ name_t ∷ name_i ∷ name_x1 ∷ name_d0 ∷ name_p1 ∷ name_q1 ∷ []); body = (c.Then (c.Set 0 (c.Const 3)) (c.Then (c.Set 1 (c.Const 3)) (c.Then (c.Call None name_put ((c.Address (root.Global name_x 1) c.Here) ∷ (c.Const 7) ∷ [])) (c.Then (c.Store (root.Global name_arr 4) (c.Index kind.Signed (c.Const 0) c.Here) (c.Const 2)) (c.Then (c.If (c.Nonzero kind.Signed (c.Binary two.Ge kind.Signed (c.Temp 1) (c.Const 1))) (c.Then (c.Set 0 (c.Binary two.Add kind.Signed (c.Const 0) (c.Const 1))) (c.Then (c.Set 0 (c.Temp 1)) c.End)) c.End) (c.Then (c.Return (Some (c.Binary two.Add kind.Signed (c.Const 1) (c.Const 2)))) c.End)))))) }) (s.Then 1 (s.Set ([]) ([])) s.NoBlock (s.Then 2 (s.Set ([]) ([])) s.NoBlock (s.Then 3 (s.Call ((Global name_x) ∷ (Of unary.Vi (Number (pos 7))) ∷ (Of unary.Vi (Number (pos 3))) ∷ []) ([]) ([]) ([])) s.NoBlock (s.Then 4 (s.Block 0 (record { opened = []; facts = ([]); locals = ((name_s, (Of unary.Vi (Number (pos 3)))) ∷ (name_t, (Of unary.Vi (Number (pos 3)))) ∷ []); items = ((Data (Number (pos 64)) (Global name_arr) (Of2 binary.Cons (Of unary.Vi (Number (pos 1))) (Of2 binary.Cons (Of unary.Vi (Number (pos 2))) (Of2 binary.Cons (Of unary.Vi (Number (pos 0))) (Of2 binary.Cons (Of unary.Vi (Number (pos 0))) Nil))))) ∷ (Data (Number (pos 64)) (Global name_x) (Of2 binary.Cons (Of unary.Vi (Number (pos 7))) Nil)) ∷ []) }) ([]) ([])) (s.WithBlock (s.Then 5 (s.Fall ([]) ([])) s.NoBlock s.End) s.NoBlock) (s.Then 6 (s.Bounds 1 None ([])) s.NoBlock (s.Then 7 (s.Store 0 ([]) ([])) s.NoBlock (s.Then 8 (s.If ([]) ([]) ([]) ([])) (s.WithBlock (s.Then 9 (s.Share 0 (Number (pos 32)) ([])) s.NoBlock (s.Then 10 (s.Unshare 1 2 ([])) s.NoBlock (s.Then 11 (s.Forget (forgotten.Prop 3)) s.NoBlock (s.Then 12 (s.Set ([]) ([])) s.NoBlock (s.Then 13 (s.Set ([]) ([])) s.NoBlock (s.Then 14 (s.Block 0 (record { opened = []; facts = ([]); locals = ((name_s, (Of unary.Vi (Number (pos 3)))) ∷ (name_t, (Of unary.Vi (Number (pos 3)))) ∷ []); items = ((Data (Number (pos 64)) (Global name_x) (Of2 binary.Cons (Of unary.Vi (Number (pos 7))) Nil)) ∷ (Data (Number (pos 64)) (Global name_arr) (Of2 binary.Cons (Of unary.Vi (Number (pos 2))) (Of2 binary.Cons (Of unary.Vi (Number (pos 2))) (Of2 binary.Cons (Of unary.Vi (Number (pos 0))) (Of2 binary.Cons (Of unary.Vi (Number (pos 0))) Nil))))) ∷ []) }) ([]) ([])) (s.WithBlock (s.Then 15 (s.Fall ([]) ([])) s.NoBlock s.End) s.NoBlock) (s.Then 16 (s.Return ((Of2 binary.Cons (Of unary.Vi (Number (pos 7))) Nil) ∷ (Of2 binary.Cons (Of unary.Vi (Number (pos 2))) (Of2 binary.Cons (Of unary.Vi (Number (pos 2))) (Of2 binary.Cons (Of unary.Vi (Number (pos 0))) (Of2 binary.Cons (Of unary.Vi (Number (pos 0))) Nil)))) ∷ []) ([]) ([])) s.NoBlock s.End))))))) (s.WithBlock s.End s.NoBlock)) s.End))))))) ≡ (RefusedAt 17 0 10)
unfolding computing
random_291 = refl

random_292 : body_verdict (record { predicates = ([]); specs = ((record { is_void = true; name = name_put; params = (name_p ∷ name_k ∷ []); vars = ((name_v, sort.Val) ∷ (name_w, sort.Val) ∷ (name_o, sort.Val) ∷ []); pre = (record { opened = []; facts = ([]); locals = ((name_p, (Var 0 sort.Val)) ∷ (name_k, (Var 1 sort.Val)) ∷ []); items = ((Data (Number (pos 64)) (Var 0 sort.Val) (Of2 binary.Cons (Var 2 sort.Val) Nil)) ∷ []) }); post = (record { opened = []; facts = ([]); locals = []; items = ((Data (Number (pos 64)) (Var 0 sort.Val) (Of2 binary.Cons (Var 1 sort.Val) Nil)) ∷ []) }) }) ∷ (record { is_void = false; name = name_main; params = ([]); vars = []; pre = (record { opened = []; facts = ([]); locals = []; items = ((Data (Number (pos 64)) (Global name_x) (Of2 binary.Cons (Of unary.Vi (Number (pos 3))) Nil)) ∷ (Data (Number (pos 64)) (Global name_arr) (Of2 binary.Cons (Of unary.Vi (Number (pos 1))) (Of2 binary.Cons (Of unary.Vi (Number (pos 2))) (Of2 binary.Cons (Of unary.Vi (Number (pos 0))) (Of2 binary.Cons (Of unary.Vi (Number (pos 0))) Nil))))) ∷ []) }); post = (record { opened = (sort.List ∷ sort.List ∷ []); facts = ((IsInt (Var 0 sort.Val)) ∷ []); locals = []; items = ((Data (Number (pos 64)) (Global name_x) (Var 1 sort.List)) ∷ (Data (Number (pos 64)) (Global name_arr) (Var 2 sort.List)) ∷ []) }) }) ∷ []) }) (record { is_void = false; name = name_main; params = ([]); vars = []; pre = (record { opened = []; facts = ([]); locals = []; items = ((Data (Number (pos 64)) (Global name_x) (Of2 binary.Cons (Of unary.Vi (Number (pos 3))) Nil)) ∷ (Data (Number (pos 64)) (Global name_arr) (Of2 binary.Cons (Of unary.Vi (Number (pos 1))) (Of2 binary.Cons (Of unary.Vi (Number (pos 2))) (Of2 binary.Cons (Of unary.Vi (Number (pos 0))) (Of2 binary.Cons (Of unary.Vi (Number (pos 0))) Nil))))) ∷ []) }); post = (record { opened = (sort.List ∷ sort.List ∷ []); facts = ((IsInt (Var 0 sort.Val)) ∷ []); locals = []; items = ((Data (Number (pos 64)) (Global name_x) (Var 1 sort.List)) ∷ (Data (Number (pos 64)) (Global name_arr) (Var 2 sort.List)) ∷ []) }) }) (record { temps = (name_s ∷ name_t ∷ name_i ∷ name_x1 ∷ name_d0 ∷ name_p1 ∷ name_q1 ∷ []); body = (c.Then (c.Set 0 (c.Const 3)) (c.Then (c.Set 1 (c.Const 3)) (c.Then (c.Call None name_put ((c.Address (root.Global name_x 1) c.Here) ∷ (c.Const 7) ∷ [])) (c.Then (c.Store (root.Global name_arr 4) (c.Index kind.Signed (c.Const 0) c.Here) (c.Const 2)) (c.Then (c.If (c.Nonzero kind.Signed (c.Binary two.Ge kind.Signed (c.Temp 1) (c.Const 1))) (c.Then (c.Set 0 (c.Binary two.Add kind.Signed (c.Const 0) (c.Const 1))) (c.Then (c.Set 0 (c.Temp 1)) c.End)) c.End) (c.Then (c.Return (Some (c.Binary two.Add kind.Signed (c.Const 1) (c.Const 2)))) c.End)))))) }) (s.Then 1 (s.Set ([]) ([])) s.NoBlock (s.Then 2 (s.Set ([]) ([])) s.NoBlock (s.Then 3 (s.Call ((Global name_x) ∷ (Of unary.Vi (Number (pos 7))) ∷ (Of unary.Vi (Number (pos 3))) ∷ []) ([]) ([]) ([])) s.NoBlock (s.Then 4 (s.Block 0 (record { opened = []; facts = ([]); locals = ((name_s, (Of unary.Vi (Number (pos 3)))) ∷ (name_t, (Of unary.Vi (Number (pos 3)))) ∷ []); items = ((Data (Number (pos 64)) (Global name_arr) (Of2 binary.Cons (Of unary.Vi (Number (pos 1))) (Of2 binary.Cons (Of unary.Vi (Number (pos 2))) (Of2 binary.Cons (Of unary.Vi (Number (pos 0))) (Of2 binary.Cons (Of unary.Vi (Number (pos 0))) Nil))))) ∷ (Data (Number (pos 64)) (Global name_x) (Of2 binary.Cons (Of unary.Vi (Number (pos 7))) Nil)) ∷ []) }) ([]) ([])) (s.WithBlock (s.Then 5 (s.Fall ([]) ([])) s.NoBlock s.End) s.NoBlock) (s.Then 6 (s.Bounds 1 None ([])) s.NoBlock (s.Then 7 (s.Store 0 ([]) ([])) s.NoBlock (s.Then 8 (s.If ([]) ([]) ([]) ([])) (s.WithBlock (s.Then 9 (s.Share 0 (Number (pos 32)) ([])) s.NoBlock (s.Then 10 (s.Unshare 1 2 ([])) s.NoBlock (s.Then 11 (s.Forget (forgotten.Prop 3)) s.NoBlock (s.Then 12 (s.Set ([]) ([])) s.NoBlock (s.Then 13 (s.Block 0 (record { opened = []; facts = ([]); locals = ((name_s, (Of unary.Vi (Number (pos 3)))) ∷ (name_t, (Of unary.Vi (Number (pos 3)))) ∷ []); items = ((Data (Number (pos 64)) (Global name_x) (Of2 binary.Cons (Of unary.Vi (Number (pos 7))) Nil)) ∷ (Data (Number (pos 64)) (Global name_arr) (Of2 binary.Cons (Of unary.Vi (Number (pos 2))) (Of2 binary.Cons (Of unary.Vi (Number (pos 2))) (Of2 binary.Cons (Of unary.Vi (Number (pos 0))) (Of2 binary.Cons (Of unary.Vi (Number (pos 0))) Nil))))) ∷ []) }) ([]) ([])) (s.WithBlock (s.Then 14 (s.Fall ([]) ([])) s.NoBlock s.End) s.NoBlock) (s.Then 15 (s.Return ((Of2 binary.Cons (Of unary.Vi (Number (pos 7))) Nil) ∷ (Of2 binary.Cons (Of unary.Vi (Number (pos 2))) (Of2 binary.Cons (Of unary.Vi (Number (pos 2))) (Of2 binary.Cons (Of unary.Vi (Number (pos 0))) (Of2 binary.Cons (Of unary.Vi (Number (pos 0))) Nil)))) ∷ []) ([]) ([])) s.NoBlock s.End)))))) (s.WithBlock (s.Then 16 (s.Absurd ([])) s.NoBlock s.End) s.NoBlock)) s.End))))))) ≡ (RefusedAt 14 10 4)
unfolding computing
random_292 = refl

random_293 : body_verdict (record { predicates = ([]); specs = ((record { is_void = true; name = name_put; params = (name_p ∷ name_k ∷ []); vars = ((name_v, sort.Val) ∷ (name_w, sort.Val) ∷ (name_o, sort.Val) ∷ []); pre = (record { opened = []; facts = ([]); locals = ((name_p, (Var 0 sort.Val)) ∷ (name_k, (Var 1 sort.Val)) ∷ []); items = ((Data (Number (pos 64)) (Var 0 sort.Val) (Of2 binary.Cons (Var 2 sort.Val) Nil)) ∷ []) }); post = (record { opened = []; facts = ([]); locals = []; items = ((Data (Number (pos 64)) (Var 0 sort.Val) (Of2 binary.Cons (Var 1 sort.Val) Nil)) ∷ []) }) }) ∷ (record { is_void = false; name = name_main; params = ([]); vars = []; pre = (record { opened = []; facts = ([]); locals = []; items = ((Data (Number (pos 64)) (Global name_x) (Of2 binary.Cons (Of unary.Vi (Number (pos 3))) Nil)) ∷ (Data (Number (pos 64)) (Global name_arr) (Of2 binary.Cons (Of unary.Vi (Number (pos 1))) (Of2 binary.Cons (Of unary.Vi (Number (pos 2))) (Of2 binary.Cons (Of unary.Vi (Number (pos 0))) (Of2 binary.Cons (Of unary.Vi (Number (pos 0))) Nil))))) ∷ []) }); post = (record { opened = (sort.List ∷ sort.List ∷ []); facts = ((IsInt (Var 0 sort.Val)) ∷ []); locals = []; items = ((Data (Number (pos 64)) (Global name_x) (Var 1 sort.List)) ∷ (Data (Number (pos 64)) (Global name_arr) (Var 2 sort.List)) ∷ []) }) }) ∷ []) }) (record { is_void = false; name = name_main; params = ([]); vars = []; pre = (record { opened = []; facts = ([]); locals = []; items = ((Data (Number (pos 64)) (Global name_x) (Of2 binary.Cons (Of unary.Vi (Number (pos 3))) Nil)) ∷ (Data (Number (pos 64)) (Global name_arr) (Of2 binary.Cons (Of unary.Vi (Number (pos 1))) (Of2 binary.Cons (Of unary.Vi (Number (pos 2))) (Of2 binary.Cons (Of unary.Vi (Number (pos 0))) (Of2 binary.Cons (Of unary.Vi (Number (pos 0))) Nil))))) ∷ []) }); post = (record { opened = (sort.List ∷ sort.List ∷ []); facts = ((IsInt (Var 0 sort.Val)) ∷ []); locals = []; items = ((Data (Number (pos 64)) (Global name_x) (Var 1 sort.List)) ∷ (Data (Number (pos 64)) (Global name_arr) (Var 2 sort.List)) ∷ []) }) }) (record { temps = (name_s ∷ name_t ∷ name_i ∷ name_x1 ∷ name_d0 ∷ name_p1 ∷ name_q1 ∷ []); body = (c.Then (c.Set 0 (c.Const 3)) (c.Then (c.Set 1 (c.Const 3)) (c.Then (c.Call None name_put ((c.Address (root.Global name_x 1) c.Here) ∷ (c.Const 7) ∷ [])) (c.Then (c.Store (root.Global name_arr 4) (c.Index kind.Signed (c.Const 0) c.Here) (c.Const 2)) (c.Then (c.If (c.Nonzero kind.Signed (c.Binary two.Ge kind.Signed (c.Temp 1) (c.Const 1))) (c.Then (c.Set 0 (c.Binary two.Add kind.Signed (c.Const 0) (c.Const 1))) (c.Then (c.Set 0 (c.Temp 1)) c.End)) c.End) (c.Then (c.Return (Some (c.Binary two.Add kind.Signed (c.Const 1) (c.Const 2)))) c.End)))))) }) (s.Then 1 (s.Set ([]) ([])) s.NoBlock (s.Then 2 (s.Set ([]) ([])) s.NoBlock (s.Then 3 (s.Call ((Global name_t) ∷ (Of unary.Vi (Number (pos 7))) ∷ (Of unary.Vi (Number (pos 3))) ∷ []) ([]) ([]) ([])) s.NoBlock (s.Then 4 (s.Block 0 (record { opened = []; facts = ([]); locals = ((name_s, (Of unary.Vi (Number (pos 3)))) ∷ (name_t, (Of unary.Vi (Number (pos 3)))) ∷ []); items = ((Data (Number (pos 64)) (Global name_arr) (Of2 binary.Cons (Of unary.Vi (Number (pos 1))) (Of2 binary.Cons (Of unary.Vi (Number (pos 2))) (Of2 binary.Cons (Of unary.Vi (Number (pos 0))) (Of2 binary.Cons (Of unary.Vi (Number (pos 0))) Nil))))) ∷ (Data (Number (pos 64)) (Global name_x) (Of2 binary.Cons (Of unary.Vi (Number (pos 7))) Nil)) ∷ []) }) ([]) ([])) (s.WithBlock (s.Then 5 (s.Fall ([]) ([])) s.NoBlock s.End) s.NoBlock) (s.Then 6 (s.Bounds 1 None ([])) s.NoBlock (s.Then 7 (s.Store 0 ([]) ([])) s.NoBlock (s.Then 8 (s.If ([]) ([]) ([]) ([])) (s.WithBlock (s.Then 9 (s.Share 0 (Number (pos 32)) ([])) s.NoBlock (s.Then 10 (s.Unshare 1 2 ([])) s.NoBlock (s.Then 11 (s.Forget (forgotten.Prop 3)) s.NoBlock (s.Then 12 (s.Set ([]) ([])) s.NoBlock (s.Then 13 (s.Set ([]) ([])) s.NoBlock (s.Then 14 (s.Block 0 (record { opened = []; facts = ([]); locals = ((name_s, (Of unary.Vi (Number (pos 3)))) ∷ (name_t, (Of unary.Vi (Number (pos 3)))) ∷ []); items = ((Data (Number (pos 64)) (Global name_x) (Of2 binary.Cons (Of unary.Vi (Number (pos 7))) Nil)) ∷ (Data (Number (pos 64)) (Global name_arr) (Of2 binary.Cons (Of unary.Vi (Number (pos 2))) (Of2 binary.Cons (Of unary.Vi (Number (pos 2))) (Of2 binary.Cons (Of unary.Vi (Number (pos 0))) (Of2 binary.Cons (Of unary.Vi (Number (pos 0))) Nil))))) ∷ []) }) ([]) ([])) (s.WithBlock (s.Then 15 (s.Fall ([]) ([])) s.NoBlock s.End) s.NoBlock) (s.Then 16 (s.Return ((Of2 binary.Cons (Of unary.Vi (Number (pos 7))) Nil) ∷ (Of2 binary.Cons (Of unary.Vi (Number (pos 2))) (Of2 binary.Cons (Of unary.Vi (Number (pos 2))) (Of2 binary.Cons (Of unary.Vi (Number (pos 0))) (Of2 binary.Cons (Of unary.Vi (Number (pos 0))) Nil)))) ∷ []) ([]) ([])) s.NoBlock s.End))))))) (s.WithBlock (s.Then 17 (s.Absurd ([])) s.NoBlock s.End) s.NoBlock)) s.End))))))) ≡ (RefusedAt 3 13 4)
unfolding computing
random_293 = refl

random_294 : body_verdict (record { predicates = ([]); specs = ((record { is_void = true; name = name_put; params = (name_p ∷ name_k ∷ []); vars = ((name_v, sort.Val) ∷ (name_w, sort.Val) ∷ (name_o, sort.Val) ∷ []); pre = (record { opened = []; facts = ([]); locals = ((name_p, (Var 0 sort.Val)) ∷ (name_k, (Var 1 sort.Val)) ∷ []); items = ((Data (Number (pos 64)) (Var 0 sort.Val) (Of2 binary.Cons (Var 2 sort.Val) Nil)) ∷ []) }); post = (record { opened = []; facts = ([]); locals = []; items = ((Data (Number (pos 64)) (Var 0 sort.Val) (Of2 binary.Cons (Var 1 sort.Val) Nil)) ∷ []) }) }) ∷ (record { is_void = false; name = name_main; params = ([]); vars = []; pre = (record { opened = []; facts = ([]); locals = []; items = ((Data (Number (pos 64)) (Global name_x) (Of2 binary.Cons (Of unary.Vi (Number (pos 3))) Nil)) ∷ (Data (Number (pos 64)) (Global name_arr) (Of2 binary.Cons (Of unary.Vi (Number (pos 1))) (Of2 binary.Cons (Of unary.Vi (Number (pos 2))) (Of2 binary.Cons (Of unary.Vi (Number (pos 0))) (Of2 binary.Cons (Of unary.Vi (Number (pos 0))) Nil))))) ∷ []) }); post = (record { opened = (sort.List ∷ sort.List ∷ []); facts = ((IsInt (Var 0 sort.Val)) ∷ []); locals = []; items = ((Data (Number (pos 64)) (Global name_x) (Var 1 sort.List)) ∷ (Data (Number (pos 32)) (Global name_arr) (Var 2 sort.List)) ∷ []) }) }) ∷ []) }) (record { is_void = false; name = name_main; params = ([]); vars = []; pre = (record { opened = []; facts = ([]); locals = []; items = ((Data (Number (pos 64)) (Global name_x) (Of2 binary.Cons (Of unary.Vi (Number (pos 3))) Nil)) ∷ (Data (Number (pos 64)) (Global name_arr) (Of2 binary.Cons (Of unary.Vi (Number (pos 1))) (Of2 binary.Cons (Of unary.Vi (Number (pos 2))) (Of2 binary.Cons (Of unary.Vi (Number (pos 0))) (Of2 binary.Cons (Of unary.Vi (Number (pos 0))) Nil))))) ∷ []) }); post = (record { opened = (sort.List ∷ sort.List ∷ []); facts = ((IsInt (Var 0 sort.Val)) ∷ []); locals = []; items = ((Data (Number (pos 64)) (Global name_x) (Var 1 sort.List)) ∷ (Data (Number (pos 32)) (Global name_arr) (Var 2 sort.List)) ∷ []) }) }) (record { temps = (name_s ∷ name_t ∷ name_i ∷ name_x1 ∷ name_d0 ∷ name_p1 ∷ name_q1 ∷ []); body = (c.Then (c.Set 0 (c.Const 3)) (c.Then (c.Set 1 (c.Const 3)) (c.Then (c.Call None name_put ((c.Address (root.Global name_x 1) c.Here) ∷ (c.Const 7) ∷ [])) (c.Then (c.Store (root.Global name_arr 4) (c.Index kind.Signed (c.Const 0) c.Here) (c.Const 2)) (c.Then (c.If (c.Nonzero kind.Signed (c.Binary two.Ge kind.Signed (c.Temp 1) (c.Const 1))) (c.Then (c.Set 0 (c.Binary two.Add kind.Signed (c.Const 0) (c.Const 1))) (c.Then (c.Set 0 (c.Temp 1)) c.End)) c.End) (c.Then (c.Return (Some (c.Binary two.Add kind.Signed (c.Const 1) (c.Const 2)))) c.End)))))) }) (s.Then 1 (s.Set ([]) ([])) s.NoBlock (s.Then 2 (s.Set ([]) ([])) s.NoBlock (s.Then 3 (s.Call ((Global name_x) ∷ (Of unary.Vi (Number (pos 7))) ∷ (Of unary.Vi (Number (pos 3))) ∷ []) ([]) ([]) ([])) s.NoBlock (s.Then 4 (s.Block 0 (record { opened = []; facts = ([]); locals = ((name_s, (Of unary.Vi (Number (pos 3)))) ∷ (name_t, (Of unary.Vi (Number (pos 3)))) ∷ []); items = ((Data (Number (pos 64)) (Global name_arr) (Of2 binary.Cons (Of unary.Vi (Number (pos 1))) (Of2 binary.Cons (Of unary.Vi (Number (pos 2))) (Of2 binary.Cons (Of unary.Vi (Number (pos 0))) (Of2 binary.Cons (Of unary.Vi (Number (pos 0))) Nil))))) ∷ (Data (Number (pos 64)) (Global name_x) (Of2 binary.Cons (Of unary.Vi (Number (pos 7))) Nil)) ∷ []) }) ([]) ([])) (s.WithBlock (s.Then 5 (s.Fall ([]) ([])) s.NoBlock s.End) s.NoBlock) (s.Then 6 (s.Bounds 1 None ([])) s.NoBlock (s.Then 7 (s.Store 0 ([]) ([])) s.NoBlock (s.Then 8 (s.If ([]) ([]) ([]) ([])) (s.WithBlock (s.Then 9 (s.Share 0 (Number (pos 32)) ([])) s.NoBlock (s.Then 10 (s.Unshare 1 2 ([])) s.NoBlock (s.Then 11 (s.Forget (forgotten.Prop 3)) s.NoBlock (s.Then 12 (s.Set ([]) ([])) s.NoBlock (s.Then 13 (s.Set ([]) ([])) s.NoBlock (s.Then 14 (s.Bounds 1 None ([])) s.NoBlock (s.Then 15 (s.Block 0 (record { opened = []; facts = ([]); locals = ((name_s, (Of unary.Vi (Number (pos 3)))) ∷ (name_t, (Of unary.Vi (Number (pos 3)))) ∷ []); items = ((Data (Number (pos 64)) (Global name_x) (Of2 binary.Cons (Of unary.Vi (Number (pos 7))) Nil)) ∷ (Data (Number (pos 64)) (Global name_arr) (Of2 binary.Cons (Of unary.Vi (Number (pos 2))) (Of2 binary.Cons (Of unary.Vi (Number (pos 2))) (Of2 binary.Cons (Of unary.Vi (Number (pos 0))) (Of2 binary.Cons (Of unary.Vi (Number (pos 0))) Nil))))) ∷ []) }) ([]) ([])) (s.WithBlock (s.Then 16 (s.Fall ([]) ([])) s.NoBlock s.End) s.NoBlock) (s.Then 17 (s.Return ((Of2 binary.Cons (Of unary.Vi (Number (pos 7))) Nil) ∷ (Of2 binary.Cons (Of unary.Vi (Number (pos 2))) (Of2 binary.Cons (Of unary.Vi (Number (pos 2))) (Of2 binary.Cons (Of unary.Vi (Number (pos 0))) (Of2 binary.Cons (Of unary.Vi (Number (pos 0))) Nil)))) ∷ []) ([]) ([])) s.NoBlock s.End)))))))) (s.WithBlock (s.Then 18 (s.Absurd ([])) s.NoBlock s.End) s.NoBlock)) s.End))))))) ≡ (RefusedAt 17 9 5)
unfolding computing
random_294 = refl

random_295 : body_verdict (record { predicates = ([]); specs = ((record { is_void = true; name = name_f; params = (name_s0 ∷ name_n1 ∷ name_u2 ∷ []); vars = ((name_w0, sort.Val) ∷ (name_h0, sort.Int) ∷ (name_q0, sort.Val) ∷ (name_a1, sort.Int) ∷ (name_b2, sort.Int) ∷ []); pre = (record { opened = []; facts = ((Rel relation.Le (Number (pos 0)) (Var 1 sort.Int)) ∷ (Rel relation.Le (Var 1 sort.Int) (Number (pos 20))) ∷ (Rel relation.Le (Number (pos 0)) (Var 3 sort.Int)) ∷ (Rel relation.Le (Var 3 sort.Int) (Number (pos 100))) ∷ (Rel relation.Le (Number (pos 0)) (Var 4 sort.Int)) ∷ (Rel relation.Le (Var 4 sort.Int) (Number (pos 31))) ∷ []); locals = ((name_s0, (Var 0 sort.Val)) ∷ (name_n1, (Of unary.Vi (Var 3 sort.Int))) ∷ (name_u2, (Of unary.Vi (Var 4 sort.Int))) ∷ []); items = ((Data (Number (pos 64)) (Var 0 sort.Val) (Of2 binary.Cons (Of unary.Vi (Var 1 sort.Int)) (Of2 binary.Cons (Var 2 sort.Val) (Of2 binary.Cons (Of unary.Vi (Number (pos 3))) Nil)))) ∷ []) }); post = (record { opened = []; facts = ([]); locals = []; items = ((Data (Number (pos 64)) (Var 0 sort.Val) (Of2 binary.Cons (Of unary.Vi (Var 1 sort.Int)) (Of2 binary.Cons (Var 2 sort.Val) (Of2 binary.Cons (Of unary.Vi (Number (pos 3))) Nil)))) ∷ []) }) }) ∷ (record { is_void = false; name = name_main; params = ([]); vars = []; pre = (record { opened = []; facts = ([]); locals = []; items = ([]) }); post = (record { opened = []; facts = ((Rel relation.Eq (Var 0 sort.Val) (Of unary.Vi (Number (pos 0)))) ∷ []); locals = []; items = ([]) }) }) ∷ []) }) (record { is_void = true; name = name_f; params = (name_s0 ∷ name_n1 ∷ name_u2 ∷ []); vars = ((name_w0, sort.Val) ∷ (name_h0, sort.Int) ∷ (name_q0, sort.Val) ∷ (name_a1, sort.Int) ∷ (name_b2, sort.Int) ∷ []); pre = (record { opened = []; facts = ((Rel relation.Le (Number (pos 0)) (Var 1 sort.Int)) ∷ (Rel relation.Le (Var 1 sort.Int) (Number (pos 20))) ∷ (Rel relation.Le (Number (pos 0)) (Var 3 sort.Int)) ∷ (Rel relation.Le (Var 3 sort.Int) (Number (pos 100))) ∷ (Rel relation.Le (Number (pos 0)) (Var 4 sort.Int)) ∷ (Rel relation.Le (Var 4 sort.Int) (Number (pos 31))) ∷ []); locals = ((name_s0, (Var 0 sort.Val)) ∷ (name_n1, (Of unary.Vi (Var 3 sort.Int))) ∷ (name_u2, (Of unary.Vi (Var 4 sort.Int))) ∷ []); items = ((Data (Number (pos 64)) (Var 0 sort.Val) (Of2 binary.Cons (Of unary.Vi (Var 1 sort.Int)) (Of2 binary.Cons (Var 2 sort.Val) (Of2 binary.Cons (Of unary.Vi (Number (pos 3))) Nil)))) ∷ []) }); post = (record { opened = []; facts = ([]); locals = []; items = ((Data (Number (pos 64)) (Var 0 sort.Val) (Of2 binary.Cons (Of unary.Vi (Var 1 sort.Int)) (Of2 binary.Cons (Var 2 sort.Val) (Of2 binary.Cons (Of unary.Vi (Number (pos 3))) Nil)))) ∷ []) }) }) (record { temps = (name_s0 ∷ name_n1 ∷ name_u2 ∷ name_s ∷ name_t ∷ name_i ∷ name_x1 ∷ name_d0 ∷ name_p1 ∷ name_q1 ∷ []); body = (c.Then (c.Set 3 (c.Const 2)) (c.Then (c.Set 4 (c.Const 0)) (c.Then c.Skip (c.Then (c.Set 3 (c.Temp 3)) c.End)))) }) (s.Then 1 (s.Set ([]) ([])) s.NoBlock (s.Then 2 (s.Set ([]) ([])) s.NoBlock (s.Then 3 s.Skip s.NoBlock (s.Then 4 (s.Fall ([]) ([])) s.NoBlock s.End)))) ≡ (RefusedAt 4 10 1)
unfolding computing
random_295 = refl

random_296 : body_verdict (record { predicates = ([]); specs = ((record { is_void = true; name = name_f; params = (name_s0 ∷ name_n1 ∷ name_u2 ∷ []); vars = ((name_w0, sort.Val) ∷ (name_h0, sort.Int) ∷ (name_q0, sort.Val) ∷ (name_a1, sort.Int) ∷ (name_b2, sort.Int) ∷ []); pre = (record { opened = []; facts = ((Rel relation.Le (Number (pos 0)) (Var 1 sort.Int)) ∷ (Rel relation.Le (Var 1 sort.Int) (Number (pos 20))) ∷ (Rel relation.Le (Number (pos 0)) (Var 3 sort.Int)) ∷ (Rel relation.Le (Var 3 sort.Int) (Number (pos 100))) ∷ (Rel relation.Le (Number (pos 0)) (Var 4 sort.Int)) ∷ (Rel relation.Le (Var 4 sort.Int) (Number (pos 31))) ∷ []); locals = ((name_s0, (Var 0 sort.Val)) ∷ (name_n1, (Of unary.Vi (Var 3 sort.Int))) ∷ (name_u2, (Of unary.Vi (Var 4 sort.Int))) ∷ []); items = ((Data (Number (pos 64)) (Var 0 sort.Val) (Of2 binary.Cons (Of unary.Vi (Var 1 sort.Int)) (Of2 binary.Cons (Var 2 sort.Val) (Of2 binary.Cons (Of unary.Vi (Number (pos 3))) Nil)))) ∷ []) }); post = (record { opened = []; facts = ([]); locals = []; items = ((Data (Number (pos 64)) (Var 0 sort.Val) (Of2 binary.Cons (Of unary.Vi (Var 1 sort.Int)) (Of2 binary.Cons (Var 2 sort.Val) (Of2 binary.Cons (Of unary.Vi (Number (pos 3))) Nil)))) ∷ []) }) }) ∷ (record { is_void = false; name = name_main; params = ([]); vars = []; pre = (record { opened = []; facts = ([]); locals = []; items = ([]) }); post = (record { opened = []; facts = ((Rel relation.Eq (Var 0 sort.Val) (Of unary.Vi (Number (pos 0)))) ∷ []); locals = []; items = ([]) }) }) ∷ []) }) (record { is_void = true; name = name_f; params = (name_s0 ∷ name_n1 ∷ name_u2 ∷ []); vars = ((name_w0, sort.Val) ∷ (name_h0, sort.Int) ∷ (name_q0, sort.Val) ∷ (name_a1, sort.Int) ∷ (name_b2, sort.Int) ∷ []); pre = (record { opened = []; facts = ((Rel relation.Le (Number (pos 0)) (Var 1 sort.Int)) ∷ (Rel relation.Le (Var 1 sort.Int) (Number (pos 20))) ∷ (Rel relation.Le (Number (pos 0)) (Var 3 sort.Int)) ∷ (Rel relation.Le (Var 3 sort.Int) (Number (pos 100))) ∷ (Rel relation.Le (Number (pos 0)) (Var 4 sort.Int)) ∷ (Rel relation.Le (Var 4 sort.Int) (Number (pos 31))) ∷ []); locals = ((name_s0, (Var 0 sort.Val)) ∷ (name_n1, (Of unary.Vi (Var 3 sort.Int))) ∷ (name_u2, (Of unary.Vi (Var 4 sort.Int))) ∷ []); items = ((Data (Number (pos 64)) (Var 0 sort.Val) (Of2 binary.Cons (Of unary.Vi (Var 1 sort.Int)) (Of2 binary.Cons (Var 2 sort.Val) (Of2 binary.Cons (Of unary.Vi (Number (pos 3))) Nil)))) ∷ []) }); post = (record { opened = []; facts = ([]); locals = []; items = ((Data (Number (pos 64)) (Var 0 sort.Val) (Of2 binary.Cons (Of unary.Vi (Var 1 sort.Int)) (Of2 binary.Cons (Var 2 sort.Val) (Of2 binary.Cons (Of unary.Vi (Number (pos 3))) Nil)))) ∷ []) }) }) (record { temps = (name_s0 ∷ name_n1 ∷ name_u2 ∷ name_s ∷ name_t ∷ name_i ∷ name_x1 ∷ name_d0 ∷ name_p1 ∷ name_q1 ∷ []); body = (c.Then (c.Set 3 (c.Const 2)) (c.Then (c.Set 4 (c.Const 0)) (c.Then c.Skip (c.Then (c.Set 3 (c.Temp 3)) c.End)))) }) (s.Then 1 (s.Set ([]) ([])) s.NoBlock (s.Then 2 s.Skip s.NoBlock (s.Then 3 s.Skip s.NoBlock (s.Then 4 (s.Set ([]) ([])) s.NoBlock (s.Then 5 (s.Fall ([]) ([])) s.NoBlock s.End))))) ≡ (RefusedAt 2 1 1)
unfolding computing
random_296 = refl

random_297 : body_verdict (record { predicates = ([]); specs = ((record { is_void = true; name = name_f; params = (name_s0 ∷ name_n1 ∷ name_u2 ∷ []); vars = ((name_w0, sort.Val) ∷ (name_h0, sort.Int) ∷ (name_q0, sort.Val) ∷ (name_a1, sort.Int) ∷ (name_b2, sort.Int) ∷ []); pre = (record { opened = []; facts = ((Rel relation.Le (Number (pos 0)) (Var 1 sort.Int)) ∷ (Rel relation.Le (Var 1 sort.Int) (Number (pos 20))) ∷ (Rel relation.Le (Number (pos 0)) (Var 3 sort.Int)) ∷ (Rel relation.Le (Var 3 sort.Int) (Number (pos 100))) ∷ (Rel relation.Le (Number (pos 0)) (Var 4 sort.Int)) ∷ (Rel relation.Le (Var 4 sort.Int) (Number (pos 31))) ∷ []); locals = ((name_s0, (Var 0 sort.Val)) ∷ (name_n1, (Of unary.Vi (Var 3 sort.Int))) ∷ (name_u2, (Of unary.Vi (Var 4 sort.Int))) ∷ []); items = ((Data (Number (pos 64)) (Var 0 sort.Val) (Of2 binary.Cons (Of unary.Vi (Var 1 sort.Int)) (Of2 binary.Cons (Var 2 sort.Val) (Of2 binary.Cons (Of unary.Vi (Number (pos 3))) Nil)))) ∷ []) }); post = (record { opened = []; facts = ([]); locals = []; items = ((Data (Number (pos 64)) (Var 0 sort.Val) (Of2 binary.Cons (Of unary.Vi (Var 1 sort.Int)) (Of2 binary.Cons (Var 2 sort.Val) (Of2 binary.Cons (Of unary.Vi (Number (pos 3))) Nil)))) ∷ []) }) }) ∷ (record { is_void = false; name = name_main; params = ([]); vars = []; pre = (record { opened = []; facts = ([]); locals = []; items = ([]) }); post = (record { opened = []; facts = ((Rel relation.Eq (Var 0 sort.Val) (Of unary.Vi (Number (pos 0)))) ∷ []); locals = []; items = ([]) }) }) ∷ []) }) (record { is_void = true; name = name_f; params = (name_s0 ∷ name_n1 ∷ name_u2 ∷ []); vars = ((name_w0, sort.Val) ∷ (name_h0, sort.Int) ∷ (name_q0, sort.Val) ∷ (name_a1, sort.Int) ∷ (name_b2, sort.Int) ∷ []); pre = (record { opened = []; facts = ((Rel relation.Le (Number (pos 0)) (Var 1 sort.Int)) ∷ (Rel relation.Le (Var 1 sort.Int) (Number (pos 20))) ∷ (Rel relation.Le (Number (pos 0)) (Var 3 sort.Int)) ∷ (Rel relation.Le (Var 3 sort.Int) (Number (pos 100))) ∷ (Rel relation.Le (Number (pos 0)) (Var 4 sort.Int)) ∷ (Rel relation.Le (Var 4 sort.Int) (Number (pos 31))) ∷ []); locals = ((name_s0, (Var 0 sort.Val)) ∷ (name_n1, (Of unary.Vi (Var 3 sort.Int))) ∷ (name_u2, (Of unary.Vi (Var 4 sort.Int))) ∷ []); items = ((Data (Number (pos 64)) (Var 0 sort.Val) (Of2 binary.Cons (Of unary.Vi (Var 1 sort.Int)) (Of2 binary.Cons (Var 2 sort.Val) (Of2 binary.Cons (Of unary.Vi (Number (pos 3))) Nil)))) ∷ []) }); post = (record { opened = []; facts = ([]); locals = []; items = ((Data (Number (pos 64)) (Var 0 sort.Val) (Of2 binary.Cons (Of unary.Vi (Var 1 sort.Int)) (Of2 binary.Cons (Var 2 sort.Val) (Of2 binary.Cons (Of unary.Vi (Number (pos 3))) Nil)))) ∷ []) }) }) (record { temps = (name_s0 ∷ name_n1 ∷ name_u2 ∷ name_s ∷ name_t ∷ name_i ∷ name_x1 ∷ name_d0 ∷ name_p1 ∷ name_q1 ∷ []); body = (c.Then (c.Set 3 (c.Const 2)) (c.Then (c.Set 4 (c.Const 0)) (c.Then c.Skip (c.Then (c.Set 3 (c.Temp 3)) c.End)))) }) (s.Then 1 (s.Set ([]) ([])) s.NoBlock (s.Then 2 (s.Set ([]) ([])) s.NoBlock (s.Then 3 s.Skip s.NoBlock (s.Then 4 (s.Set ([]) ([])) s.NoBlock s.End)))) ≡ (RefusedAt 5 0 10)
unfolding computing
random_297 = refl

random_298 : body_verdict (record { predicates = ([]); specs = ((record { is_void = true; name = name_f; params = (name_s0 ∷ name_n1 ∷ name_u2 ∷ []); vars = ((name_w0, sort.Val) ∷ (name_h0, sort.Int) ∷ (name_q0, sort.Val) ∷ (name_a1, sort.Int) ∷ (name_b2, sort.Int) ∷ []); pre = (record { opened = []; facts = ((Rel relation.Le (Number (pos 0)) (Var 1 sort.Int)) ∷ (Rel relation.Le (Var 1 sort.Int) (Number (pos 20))) ∷ (Rel relation.Le (Number (pos 0)) (Var 3 sort.Int)) ∷ (Rel relation.Le (Var 3 sort.Int) (Number (pos 100))) ∷ (Rel relation.Le (Number (pos 0)) (Var 4 sort.Int)) ∷ (Rel relation.Le (Var 4 sort.Int) (Number (pos 31))) ∷ []); locals = ((name_s0, (Var 0 sort.Val)) ∷ (name_n1, (Of unary.Vi (Var 3 sort.Int))) ∷ (name_u2, (Of unary.Vi (Var 4 sort.Int))) ∷ []); items = ((Data (Number (pos 64)) (Var 0 sort.Val) (Of2 binary.Cons (Of unary.Vi (Var 1 sort.Int)) (Of2 binary.Cons (Var 2 sort.Val) (Of2 binary.Cons (Of unary.Vi (Number (pos 3))) Nil)))) ∷ []) }); post = (record { opened = []; facts = ([]); locals = []; items = ((Data (Number (pos 64)) (Var 0 sort.Val) (Of2 binary.Cons (Of unary.Vi (Var 1 sort.Int)) (Of2 binary.Cons (Var 2 sort.Val) (Of2 binary.Cons (Of unary.Vi (Number (pos 3))) Nil)))) ∷ []) }) }) ∷ (record { is_void = false; name = name_main; params = ([]); vars = []; pre = (record { opened = []; facts = ([]); locals = []; items = ([]) }); post = (record { opened = []; facts = ((Rel relation.Eq (Var 0 sort.Val) (Of unary.Vi (Number (pos 0)))) ∷ []); locals = []; items = ([]) }) }) ∷ []) }) (record { is_void = true; name = name_f; params = (name_s0 ∷ name_n1 ∷ name_u2 ∷ []); vars = ((name_w0, sort.Val) ∷ (name_h0, sort.Int) ∷ (name_q0, sort.Val) ∷ (name_a1, sort.Int) ∷ (name_b2, sort.Int) ∷ []); pre = (record { opened = []; facts = ((Rel relation.Le (Number (pos 0)) (Var 1 sort.Int)) ∷ (Rel relation.Le (Var 1 sort.Int) (Number (pos 20))) ∷ (Rel relation.Le (Number (pos 0)) (Var 3 sort.Int)) ∷ (Rel relation.Le (Var 3 sort.Int) (Number (pos 100))) ∷ (Rel relation.Le (Number (pos 0)) (Var 4 sort.Int)) ∷ (Rel relation.Le (Var 4 sort.Int) (Number (pos 31))) ∷ []); locals = ((name_s0, (Var 0 sort.Val)) ∷ (name_n1, (Of unary.Vi (Var 3 sort.Int))) ∷ (name_u2, (Of unary.Vi (Var 4 sort.Int))) ∷ []); items = ((Data (Number (pos 64)) (Var 0 sort.Val) (Of2 binary.Cons (Of unary.Vi (Var 1 sort.Int)) (Of2 binary.Cons (Var 2 sort.Val) (Of2 binary.Cons (Of unary.Vi (Number (pos 3))) Nil)))) ∷ []) }); post = (record { opened = []; facts = ([]); locals = []; items = ((Data (Number (pos 64)) (Var 0 sort.Val) (Of2 binary.Cons (Of unary.Vi (Var 1 sort.Int)) (Of2 binary.Cons (Var 2 sort.Val) (Of2 binary.Cons (Of unary.Vi (Number (pos 3))) Nil)))) ∷ []) }) }) (record { temps = (name_s0 ∷ name_n1 ∷ name_u2 ∷ name_s ∷ name_t ∷ name_i ∷ name_x1 ∷ name_d0 ∷ name_p1 ∷ name_q1 ∷ []); body = (c.Then (c.Set 3 (c.Const 2)) (c.Then (c.Set 4 (c.Const 0)) (c.Then c.Skip (c.Then (c.Set 3 (c.Temp 3)) c.End)))) }) (s.Then 1 (s.Set ([]) ([])) s.NoBlock (s.Then 2 s.Skip s.NoBlock (s.Then 3 (s.Set ([]) ([])) s.NoBlock (s.Then 4 (s.Fall ([]) ([])) s.NoBlock s.End)))) ≡ (RefusedAt 2 1 1)
unfolding computing
random_298 = refl

random_299 : body_verdict (record { predicates = ([]); specs = ((record { is_void = true; name = name_f; params = (name_s0 ∷ name_n1 ∷ name_u2 ∷ []); vars = ((name_w0, sort.Val) ∷ (name_h0, sort.Int) ∷ (name_q0, sort.Val) ∷ (name_a1, sort.Int) ∷ (name_b2, sort.Int) ∷ []); pre = (record { opened = []; facts = ((Rel relation.Le (Number (pos 0)) (Var 1 sort.Int)) ∷ (Rel relation.Le (Var 1 sort.Int) (Number (pos 20))) ∷ (Rel relation.Le (Number (pos 0)) (Var 3 sort.Int)) ∷ (Rel relation.Le (Var 3 sort.Int) (Number (pos 100))) ∷ (Rel relation.Le (Number (pos 0)) (Var 4 sort.Int)) ∷ (Rel relation.Le (Var 4 sort.Int) (Number (pos 31))) ∷ []); locals = ((name_s0, (Var 0 sort.Val)) ∷ (name_n1, (Of unary.Vi (Var 3 sort.Int))) ∷ (name_u2, (Of unary.Vi (Var 4 sort.Int))) ∷ []); items = ((Data (Number (pos 64)) (Var 0 sort.Val) (Of2 binary.Cons (Of unary.Vi (Var 1 sort.Int)) (Of2 binary.Cons (Var 2 sort.Val) (Of2 binary.Cons (Of unary.Vi (Number (pos 3))) Nil)))) ∷ []) }); post = (record { opened = []; facts = ([]); locals = []; items = ((Data (Number (pos 64)) (Var 0 sort.Val) (Of2 binary.Cons (Of unary.Vi (Var 1 sort.Int)) (Of2 binary.Cons (Var 2 sort.Val) (Of2 binary.Cons (Of unary.Vi (Number (pos 3))) Nil)))) ∷ []) }) }) ∷ (record { is_void = false; name = name_main; params = ([]); vars = []; pre = (record { opened = []; facts = ([]); locals = []; items = ([]) }); post = (record { opened = []; facts = ((Rel relation.Eq (Var 0 sort.Val) (Of unary.Vi (Number (pos 0)))) ∷ []); locals = []; items = ([]) }) }) ∷ []) }) (record { is_void = true; name = name_f; params = (name_s0 ∷ name_n1 ∷ name_u2 ∷ []); vars = ((name_w0, sort.Val) ∷ (name_h0, sort.Int) ∷ (name_q0, sort.Val) ∷ (name_a1, sort.Int) ∷ (name_b2, sort.Int) ∷ []); pre = (record { opened = []; facts = ((Rel relation.Le (Number (pos 0)) (Var 1 sort.Int)) ∷ (Rel relation.Le (Var 1 sort.Int) (Number (pos 20))) ∷ (Rel relation.Le (Number (pos 0)) (Var 3 sort.Int)) ∷ (Rel relation.Le (Var 3 sort.Int) (Number (pos 100))) ∷ (Rel relation.Le (Number (pos 0)) (Var 4 sort.Int)) ∷ (Rel relation.Le (Var 4 sort.Int) (Number (pos 31))) ∷ []); locals = ((name_s0, (Var 0 sort.Val)) ∷ (name_n1, (Of unary.Vi (Var 3 sort.Int))) ∷ (name_u2, (Of unary.Vi (Var 4 sort.Int))) ∷ []); items = ((Data (Number (pos 64)) (Var 0 sort.Val) (Of2 binary.Cons (Of unary.Vi (Var 1 sort.Int)) (Of2 binary.Cons (Var 2 sort.Val) (Of2 binary.Cons (Of unary.Vi (Number (pos 3))) Nil)))) ∷ []) }); post = (record { opened = []; facts = ([]); locals = []; items = ((Data (Number (pos 64)) (Var 0 sort.Val) (Of2 binary.Cons (Of unary.Vi (Var 1 sort.Int)) (Of2 binary.Cons (Var 2 sort.Val) (Of2 binary.Cons (Of unary.Vi (Number (pos 3))) Nil)))) ∷ []) }) }) (record { temps = (name_s0 ∷ name_n1 ∷ name_u2 ∷ name_s ∷ name_t ∷ name_i ∷ name_x1 ∷ name_d0 ∷ name_p1 ∷ name_q1 ∷ []); body = (c.Then (c.Set 3 (c.Const 2)) (c.Then (c.Set 4 (c.Const 0)) (c.Then c.Skip (c.Then (c.Set 3 (c.Temp 3)) c.End)))) }) (s.Then 1 (s.Set ([]) ([])) s.NoBlock (s.Then 2 (s.Set ([]) ([])) s.NoBlock (s.Then 3 s.Skip s.NoBlock (s.Then 4 (s.Fall ([]) ([])) s.NoBlock (s.Then 5 (s.Set ([]) ([])) s.NoBlock s.End))))) ≡ (RefusedAt 4 10 1)
unfolding computing
random_299 = refl

random_300 : body_verdict (record { predicates = ([]); specs = ((record { is_void = true; name = name_f; params = (name_s0 ∷ name_n1 ∷ name_u2 ∷ []); vars = ((name_w0, sort.Val) ∷ (name_h0, sort.Int) ∷ (name_q0, sort.Val) ∷ (name_a1, sort.Int) ∷ (name_b2, sort.Int) ∷ []); pre = (record { opened = []; facts = ((Rel relation.Le (Number (pos 0)) (Var 1 sort.Int)) ∷ (Rel relation.Le (Var 1 sort.Int) (Number (pos 20))) ∷ (Rel relation.Le (Number (pos 0)) (Var 3 sort.Int)) ∷ (Rel relation.Le (Var 3 sort.Int) (Number (pos 100))) ∷ (Rel relation.Le (Number (pos 0)) (Var 4 sort.Int)) ∷ (Rel relation.Le (Var 4 sort.Int) (Number (pos 31))) ∷ []); locals = ((name_s0, (Var 0 sort.Val)) ∷ (name_n1, (Of unary.Vi (Var 3 sort.Int))) ∷ (name_u2, (Of unary.Vi (Var 4 sort.Int))) ∷ []); items = ((Data (Number (pos 64)) (Var 0 sort.Val) (Of2 binary.Cons (Of unary.Vi (Var 1 sort.Int)) (Of2 binary.Cons (Var 2 sort.Val) (Of2 binary.Cons (Of unary.Vi (Number (pos 3))) Nil)))) ∷ []) }); post = (record { opened = []; facts = ([]); locals = []; items = ((Data (Number (pos 64)) (Var 0 sort.Val) (Of2 binary.Cons (Of unary.Vi (Var 1 sort.Int)) (Of2 binary.Cons (Var 2 sort.Val) (Of2 binary.Cons (Of unary.Vi (Number (pos 3))) Nil)))) ∷ []) }) }) ∷ (record { is_void = false; name = name_main; params = ([]); vars = []; pre = (record { opened = []; facts = ([]); locals = []; items = ([]) }); post = (record { opened = []; facts = ((Rel relation.Eq (Var 0 sort.Val) (Of unary.Vi (Number (pos 0)))) ∷ []); locals = []; items = ([]) }) }) ∷ []) }) (record { is_void = true; name = name_f; params = (name_s0 ∷ name_n1 ∷ name_u2 ∷ []); vars = ((name_w0, sort.Val) ∷ (name_h0, sort.Int) ∷ (name_q0, sort.Val) ∷ (name_a1, sort.Int) ∷ (name_b2, sort.Int) ∷ []); pre = (record { opened = []; facts = ((Rel relation.Le (Number (pos 0)) (Var 1 sort.Int)) ∷ (Rel relation.Le (Var 1 sort.Int) (Number (pos 20))) ∷ (Rel relation.Le (Number (pos 0)) (Var 3 sort.Int)) ∷ (Rel relation.Le (Var 3 sort.Int) (Number (pos 100))) ∷ (Rel relation.Le (Number (pos 0)) (Var 4 sort.Int)) ∷ (Rel relation.Le (Var 4 sort.Int) (Number (pos 31))) ∷ []); locals = ((name_s0, (Var 0 sort.Val)) ∷ (name_n1, (Of unary.Vi (Var 3 sort.Int))) ∷ (name_u2, (Of unary.Vi (Var 4 sort.Int))) ∷ []); items = ((Data (Number (pos 64)) (Var 0 sort.Val) (Of2 binary.Cons (Of unary.Vi (Var 1 sort.Int)) (Of2 binary.Cons (Var 2 sort.Val) (Of2 binary.Cons (Of unary.Vi (Number (pos 3))) Nil)))) ∷ []) }); post = (record { opened = []; facts = ([]); locals = []; items = ((Data (Number (pos 64)) (Var 0 sort.Val) (Of2 binary.Cons (Of unary.Vi (Var 1 sort.Int)) (Of2 binary.Cons (Var 2 sort.Val) (Of2 binary.Cons (Of unary.Vi (Number (pos 3))) Nil)))) ∷ []) }) }) (record { temps = (name_s0 ∷ name_n1 ∷ name_u2 ∷ name_s ∷ name_t ∷ name_i ∷ name_x1 ∷ name_d0 ∷ name_p1 ∷ name_q1 ∷ []); body = (c.Then (c.Set 3 (c.Const 2)) (c.Then (c.Set 4 (c.Const 0)) (c.Then c.Skip (c.Then (c.Set 3 (c.Temp 3)) c.End)))) }) (s.Then 1 (s.Set ([]) ([])) s.NoBlock (s.Then 2 (s.Return ([]) ([]) ([])) s.NoBlock (s.Then 3 (s.Set ([]) ([])) s.NoBlock (s.Then 4 s.Skip s.NoBlock (s.Then 5 (s.Set ([]) ([])) s.NoBlock (s.Then 6 (s.Fall ([]) ([])) s.NoBlock s.End)))))) ≡ (RefusedAt 2 9 1)
unfolding computing
random_300 = refl
