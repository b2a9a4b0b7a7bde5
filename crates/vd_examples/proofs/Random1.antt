-- Random works.
use Rattle.std.specs.Prelude.{◌≡◌, refl, pos, [], ◌∷◌, true, false, Some, None}
use Rattle.vd_terms.specs.Terms.{Number, Var, Named, Global, Undef, Nil, Of, Of2}
use Rattle.vd_terms.specs.declared.assertion.FactOf.TheVariants.{Rel}
use Rattle.vd_terms.specs.declared.assertion.ItemOf.TheVariants.{Data, Lock, Holds, Pred}
use Rattle.vd_rules.specs.Computing.{computing}
use Rattle.vd_rules.specs.Verdicts.{Accepted, RefusedAt, body_verdict}
use Rattle.vd_terms.specs.declared.operation.Unary.TheVariants as unary
use Rattle.vd_terms.specs.declared.operation.Binary.TheVariants as binary
use Rattle.vd_logic.specs.declared.term.Sort.TheVariants as sort
use Rattle.vd_logic.specs.declared.assertion.Rel.TheVariants as relation
use Rattle.vd_logic.specs.declared.step.CertLine.TheVariants as line
use Rattle.vd_logic.specs.declared.step.Occurrence.TheVariants as occurrence
use Rattle.vd_logic.specs.declared.step.Forgotten.TheVariants as forgotten
use Rattle.vd_clight.specs.declared.syntax.BinOp.TheVariants as two
use Rattle.vd_clight.specs.declared.typed.Kind.TheVariants as kind
use Rattle.vd_clight.specs.declared.typed.Root.TheVariants as root
use Rattle.vd_clight.specs.declared.typed.LockOp.TheVariants as lock
use Rattle.vd_steps.specs.Code as c
use Rattle.vd_steps.specs.Script as s
use Rattle.vd_examples.specs.Names.{name_E, name_a, name_a0, name_a1, name_a2, name_arr, name_b1, name_band_hi, name_d0, name_e0, name_f, name_g, name_get, name_i, name_inc, name_iv, name_k1, name_k2, name_l, name_l0, name_main, name_n, name_n0, name_n1, name_n2, name_o0, name_o1, name_ov, name_p, name_p00, name_p1, name_p10, name_q1, name_r0, name_s, name_t, name_u1, name_v, name_v0, name_v1, name_vi_wrap, name_w, name_x, name_x1, name_z, name_zz}

random_1 : body_verdict (record { predicates = ([]); specs = ((record { is_void = false; name = name_main; params = ([]); vars = []; pre = (record { opened = []; facts = ([]); locals = []; items = ([]) }); post = (record { opened = []; facts = ([]); locals = []; items = ([]) }) }) ∷ []) }) (record { is_void = false; name = name_main; params = ([]); vars = []; pre = (record { opened = []; facts = ([]); locals = []; items = ([]) }); post = (record { opened = []; facts = ([]); locals = []; items = ([]) }) }) (record { temps = (name_s ∷ name_t ∷ name_i ∷ name_x1 ∷ name_d0 ∷ name_p1 ∷ name_q1 ∷ []); body = (c.Then (c.Set 0 (c.Const 0)) (c.Then (c.Set 1 (c.Const 3)) (c.Then (c.Set 0 (c.Const 3)) (c.Then (c.Malloc 5 3) (c.Then (c.If (c.Pointers (c.Temp 5) (c.Const 0) true) (c.Then (c.Return (Some (c.Const 0))) c.End) c.End) (c.Then (c.Store (root.Temp 5) (c.Offset 0 c.Here) (c.Const 2)) (c.Then (c.Load 1 (root.Temp 5) (c.Offset 0 c.Here)) (c.Then (c.Free (c.Temp 5)) (c.Then (c.Set 4 (c.Const 2)) (c.Then (c.Return (Some (c.Temp 1))) c.End)))))))))) }) (s.Then 1 (s.Set ([]) ([])) s.NoBlock (s.Then 2 (s.Set ([]) ([])) s.NoBlock (s.Then 3 (s.Set ([]) ([])) s.NoBlock (s.Then 4 (s.Malloc name_k1 ([]) ([])) (s.WithBlock (s.Then 5 (s.If ([]) ([]) ([]) ([])) (s.WithBlock (s.Then 6 (s.Return ([]) ([]) ([])) s.NoBlock s.End) (s.WithBlock (s.Then 7 (s.Absurd ([])) s.NoBlock s.End) s.NoBlock)) s.End) (s.WithBlock (s.Then 8 (s.If (0 ∷ []) ([]) ([]) ([])) (s.WithBlock (s.Then 9 (s.Subst name_k1) s.NoBlock (s.Then 10 (s.Absurd ([])) s.NoBlock s.End)) (s.WithBlock (s.Then 11 (s.Store 0 ([]) ([])) s.NoBlock (s.Then 12 (s.Load 0 ([]) ([])) s.NoBlock (s.Then 13 (s.Free 0 1 ([])) s.NoBlock (s.Then 14 (s.Set ([]) ([])) s.NoBlock (s.Then 15 (s.Return ([]) ([]) ([])) s.NoBlock s.End))))) s.NoBlock)) s.End) s.NoBlock)) s.End)))) ≡ Accepted
unfolding computing
random_1 = refl

random_2 : body_verdict (record { predicates = ([]); specs = ((record { is_void = false; name = name_main; params = ([]); vars = []; pre = (record { opened = []; facts = ([]); locals = []; items = ([]) }); post = (record { opened = []; facts = ([]); locals = []; items = ([]) }) }) ∷ []) }) (record { is_void = false; name = name_main; params = ([]); vars = []; pre = (record { opened = []; facts = ([]); locals = []; items = ([]) }); post = (record { opened = []; facts = ([]); locals = []; items = ([]) }) }) (record { temps = (name_s ∷ name_t ∷ name_i ∷ name_x1 ∷ name_d0 ∷ name_p1 ∷ name_q1 ∷ []); body = (c.Then (c.Set 0 (c.Const 0)) (c.Then (c.Set 1 (c.Const 3)) (c.Then (c.Set 0 (c.Const 3)) (c.Then (c.Malloc 5 3) (c.Then (c.If (c.Pointers (c.Temp 5) (c.Const 0) true) (c.Then (c.Return (Some (c.Const 0))) c.End) c.End) (c.Then (c.Store (root.Temp 5) (c.Offset 0 c.Here) (c.Const 2)) (c.Then (c.Load 1 (root.Temp 5) (c.Offset 0 c.Here)) (c.Then (c.Free (c.Temp 5)) (c.Then (c.Set 4 (c.Const 2)) (c.Then (c.Return (Some (c.Temp 1))) c.End)))))))))) }) (s.Then 1 (s.Set ([]) ([])) s.NoBlock (s.Then 2 (s.Set ([]) ([])) s.NoBlock (s.Then 3 (s.Set ([]) ([])) s.NoBlock (s.Then 4 (s.Malloc name_k1 ([]) ([])) (s.WithBlock (s.Then 5 (s.If ([]) ([]) ([]) ([])) (s.WithBlock (s.Then 6 (s.Return ([]) ([]) ([])) s.NoBlock s.End) (s.WithBlock (s.Then 7 (s.Absurd ([])) s.NoBlock s.End) s.NoBlock)) s.End) (s.WithBlock (s.Then 8 (s.If (0 ∷ []) ([]) ([]) ([])) (s.WithBlock (s.Then 9 (s.Subst name_k1) s.NoBlock (s.Then 10 (s.Absurd ([])) s.NoBlock s.End)) (s.WithBlock (s.Then 11 (s.Store 0 ([]) ([])) s.NoBlock (s.Then 12 (s.Load 0 ([]) ([])) s.NoBlock (s.Then 13 (s.Free 2 1 ([])) s.NoBlock (s.Then 14 (s.Set ([]) ([])) s.NoBlock (s.Then 15 (s.Return ([]) ([]) ([])) s.NoBlock s.End))))) s.NoBlock)) s.End) s.NoBlock)) s.End)))) ≡ (RefusedAt 13 15 1)
unfolding computing
random_2 = refl

random_3 : body_verdict (record { predicates = ([]); specs = ((record { is_void = false; name = name_main; params = ([]); vars = []; pre = (record { opened = []; facts = ([]); locals = []; items = ([]) }); post = (record { opened = []; facts = ([]); locals = []; items = ([]) }) }) ∷ []) }) (record { is_void = false; name = name_main; params = ([]); vars = []; pre = (record { opened = []; facts = ([]); locals = []; items = ([]) }); post = (record { opened = []; facts = ([]); locals = []; items = ([]) }) }) (record { temps = (name_s ∷ name_t ∷ name_i ∷ name_x1 ∷ name_d0 ∷ name_p1 ∷ name_q1 ∷ []); body = (c.Then (c.Set 0 (c.Const 0)) (c.Then (c.Set 1 (c.Const 3)) (c.Then (c.Set 0 (c.Const 3)) (c.Then (c.Malloc 5 3) (c.Then (c.If (c.Pointers (c.Temp 5) (c.Const 0) true) (c.Then (c.Return (Some (c.Const 0))) c.End) c.End) (c.Then (c.Store (root.Temp 5) (c.Offset 0 c.Here) (c.Const 2)) (c.Then (c.Load 1 (root.Temp 5) (c.Offset 0 c.Here)) (c.Then (c.Free (c.Temp 5)) (c.Then (c.Set 4 (c.Const 2)) (c.Then (c.Return (Some (c.Temp 1))) c.End)))))))))) }) (s.Then 1 (s.Set ([]) ([])) s.NoBlock (s.Then 2 (s.Set ([]) ([])) s.NoBlock (s.Then 3 (s.Set ([]) ([])) s.NoBlock (s.Then 4 (s.Malloc name_k1 ([]) ([])) (s.WithBlock (s.Then 5 (s.If ([]) ([]) ([]) ([])) (s.WithBlock (s.Then 6 (s.Return ([]) ([]) ([])) s.NoBlock s.End) (s.WithBlock (s.Then 7 (s.Absurd ([])) s.NoBlock s.End) s.NoBlock)) s.End) (s.WithBlock (s.Then 8 (s.If (0 ∷ []) ([]) ([]) ([])) (s.WithBlock (s.Then 9 (s.Subst name_k1) s.NoBlock (s.Then 10 (s.Absurd ([])) s.NoBlock s.End)) (s.WithBlock (s.Then 11 (s.Store 0 ([]) ([])) s.NoBlock (s.Then 12 (s.Load 0 ([]) ([])) s.NoBlock (s.Then 13 (s.Free 0 1 ([])) s.NoBlock (s.Then 14 (s.Subst name_k1) s.NoBlock (s.Then 15 (s.Set ([]) ([])) s.NoBlock (s.Then 16 (s.Return ([]) ([]) ([])) s.NoBlock s.End)))))) s.NoBlock)) s.End) s.NoBlock)) s.End)))) ≡ (RefusedAt 14 27 1)
unfolding computing
random_3 = refl

random_4 : body_verdict (record { predicates = ([]); specs = ((record { is_void = false; name = name_main; params = ([]); vars = []; pre = (record { opened = []; facts = ([]); locals = []; items = ([]) }); post = (record { opened = []; facts = ([]); locals = []; items = ([]) }) }) ∷ []) }) (record { is_void = false; name = name_main; params = ([]); vars = []; pre = (record { opened = []; facts = ([]); locals = []; items = ([]) }); post = (record { opened = []; facts = ([]); locals = []; items = ([]) }) }) (record { temps = (name_s ∷ name_t ∷ name_i ∷ name_x1 ∷ name_d0 ∷ name_p1 ∷ name_q1 ∷ []); body = (c.Then (c.Set 0 (c.Const 0)) (c.Then (c.Set 1 (c.Const 3)) (c.Then (c.Set 0 (c.Const 3)) (c.Then (c.Malloc 5 3) (c.Then (c.If (c.Pointers (c.Temp 5) (c.Const 0) true) (c.Then (c.Return (Some (c.Const 0))) c.End) c.End) (c.Then (c.Store (root.Temp 5) (c.Offset 0 c.Here) (c.Const 2)) (c.Then (c.Load 1 (root.Temp 5) (c.Offset 0 c.Here)) (c.Then (c.Free (c.Temp 5)) (c.Then (c.Set 4 (c.Const 2)) (c.Then (c.Return (Some (c.Temp 1))) c.End)))))))))) }) (s.Then 1 (s.Set ([]) ([])) s.NoBlock (s.Then 2 (s.Set ([]) ([])) s.NoBlock (s.Then 3 (s.Set ([]) ([])) s.NoBlock (s.Then 4 (s.Malloc name_k1 ([]) ([])) (s.WithBlock (s.Then 5 (s.If ([]) ([]) ([]) ([])) (s.WithBlock (s.Then 6 (s.Return ([]) ([]) ([])) s.NoBlock s.End) (s.WithBlock (s.Then 7 (s.Absurd ([])) s.NoBlock s.End) s.NoBlock)) s.End) (s.WithBlock (s.Then 8 (s.If (0 ∷ []) ([]) ([]) ([])) (s.WithBlock (s.Then 9 (s.Return ([]) ([]) ([])) s.NoBlock s.End) (s.WithBlock (s.Then 10 (s.Store 0 ([]) ([])) s.NoBlock (s.Then 11 (s.Load 0 ([]) ([])) s.NoBlock (s.Then 12 (s.Free 0 1 ([])) s.NoBlock (s.Then 13 (s.Set ([]) ([])) s.NoBlock (s.Then 14 (s.Subst name_k1) s.NoBlock s.End))))) s.NoBlock)) s.End) s.NoBlock)) s.End)))) ≡ (RefusedAt 9 9 5)
unfolding computing
random_4 = refl

random_5 : body_verdict (record { predicates = ([]); specs = ((record { is_void = false; name = name_main; params = ([]); vars = []; pre = (record { opened = []; facts = ([]); locals = []; items = ([]) }); post = (record { opened = []; facts = ([]); locals = []; items = ([]) }) }) ∷ []) }) (record { is_void = false; name = name_main; params = ([]); vars = []; pre = (record { opened = []; facts = ([]); locals = []; items = ([]) }); post = (record { opened = []; facts = ([]); locals = []; items = ([]) }) }) (record { temps = (name_s ∷ name_t ∷ name_i ∷ name_x1 ∷ name_d0 ∷ name_p1 ∷ name_q1 ∷ []); body = (c.Then (c.Set 0 (c.Const 0)) (c.Then (c.Set 1 (c.Const 3)) (c.Then (c.Set 0 (c.Const 3)) (c.Then (c.Malloc 5 3) (c.Then (c.If (c.Pointers (c.Temp 5) (c.Const 0) true) (c.Then (c.Return (Some (c.Const 0))) c.End) c.End) (c.Then (c.Store (root.Temp 5) (c.Offset 0 c.Here) (c.Const 2)) (c.Then (c.Load 1 (root.Temp 5) (c.Offset 0 c.Here)) (c.Then (c.Free (c.Temp 5)) (c.Then (c.Set 4 (c.Const 2)) (c.Then (c.Return (Some (c.Temp 1))) c.End)))))))))) }) (s.Then 1 (s.Set ([]) ([])) s.NoBlock (s.Then 2 (s.Set ([]) ([])) s.NoBlock (s.Then 3 (s.Set ([]) ([])) s.NoBlock (s.Then 4 (s.Malloc name_k1 ([]) ([])) (s.WithBlock (s.Then 5 (s.If ([]) ([]) ([]) ([])) (s.WithBlock s.End (s.WithBlock (s.Then 6 (s.Absurd ([])) s.NoBlock s.End) s.NoBlock)) s.End) (s.WithBlock (s.Then 7 (s.If (0 ∷ []) ([]) ([]) ([])) (s.WithBlock (s.Then 8 (s.Subst name_k1) s.NoBlock (s.Then 9 (s.Absurd ([])) s.NoBlock s.End)) (s.WithBlock (s.Then 10 (s.Store 0 ([]) ([])) s.NoBlock (s.Then 11 (s.Load 0 ([]) ([])) s.NoBlock (s.Then 12 (s.Free 0 1 ([])) s.NoBlock (s.Then 13 (s.Set ([]) ([])) s.NoBlock (s.Then 14 (s.Return ([]) ([]) ([])) s.NoBlock s.End))))) s.NoBlock)) s.End) s.NoBlock)) s.End)))) ≡ (RefusedAt 6 0 10)
unfolding computing
random_5 = refl

random_6 : body_verdict (record { predicates = ([]); specs = ((record { is_void = false; name = name_main; params = ([]); vars = []; pre = (record { opened = []; facts = ([]); locals = []; items = ([]) }); post = (record { opened = []; facts = ([]); locals = []; items = ([]) }) }) ∷ []) }) (record { is_void = false; name = name_main; params = ([]); vars = []; pre = (record { opened = []; facts = ([]); locals = []; items = ([]) }); post = (record { opened = []; facts = ([]); locals = []; items = ([]) }) }) (record { temps = (name_s ∷ name_t ∷ name_i ∷ name_x1 ∷ name_d0 ∷ name_p1 ∷ name_q1 ∷ []); body = (c.Then (c.Set 0 (c.Const 0)) (c.Then (c.Set 1 (c.Const 3)) (c.Then (c.Set 0 (c.Const 3)) (c.Then (c.Malloc 5 3) (c.Then (c.If (c.Pointers (c.Temp 5) (c.Const 0) true) (c.Then (c.Return (Some (c.Const 0))) c.End) c.End) (c.Then (c.Store (root.Temp 5) (c.Offset 0 c.Here) (c.Const 2)) (c.Then (c.Load 1 (root.Temp 5) (c.Offset 0 c.Here)) (c.Then (c.Free (c.Temp 5)) (c.Then (c.Set 4 (c.Const 2)) (c.Then (c.Return (Some (c.Temp 1))) c.End)))))))))) }) (s.Then 1 (s.Set ([]) ([])) s.NoBlock (s.Then 2 (s.Set ([]) ([])) s.NoBlock (s.Then 3 (s.Set ([]) ([])) s.NoBlock (s.Then 4 (s.Malloc name_k1 ([]) ([])) (s.WithBlock (s.Then 5 (s.If ([]) ([]) ([]) ([])) (s.WithBlock (s.Then 6 (s.Return ([]) ([]) ([])) s.NoBlock s.End) (s.WithBlock (s.Then 7 (s.Absurd ([])) s.NoBlock s.End) s.NoBlock)) s.End) (s.WithBlock (s.Then 8 (s.If (0 ∷ []) ([]) ([]) ([])) (s.WithBlock (s.Then 9 (s.Subst name_k1) s.NoBlock (s.Then 10 (s.Absurd ([])) s.NoBlock s.End)) (s.WithBlock (s.Then 11 (s.Store 0 ([]) ([])) s.NoBlock (s.Then 12 (s.Load 0 ([]) ([])) s.NoBlock (s.Then 13 (s.Free 0 1 ([])) s.NoBlock (s.Then 14 (s.Set ([]) ([])) s.NoBlock (s.Then 15 (s.Absurd ([])) s.NoBlock s.End))))) s.NoBlock)) s.End) s.NoBlock)) s.End)))) ≡ (RefusedAt 15 24 3)
unfolding computing
random_6 = refl

random_7 : body_verdict (record { predicates = ([]); specs = ((record { is_void = false; name = name_main; params = ([]); vars = []; pre = (record { opened = []; facts = ([]); locals = []; items = ([]) }); post = (record { opened = []; facts = ([]); locals = []; items = ([]) }) }) ∷ []) }) (record { is_void = false; name = name_main; params = ([]); vars = []; pre = (record { opened = []; facts = ([]); locals = []; items = ([]) }); post = (record { opened = []; facts = ([]); locals = []; items = ([]) }) }) (record { temps = (name_s ∷ name_t ∷ name_i ∷ name_x1 ∷ name_d0 ∷ name_p1 ∷ name_q1 ∷ []); body = (c.Then (c.Set 0 (c.Const 0)) (c.Then (c.Set 1 (c.Const 3)) (c.Then (c.Set 0 (c.Const 3)) (c.Then (c.Malloc 5 3) (c.Then (c.If (c.Pointers (c.Temp 5) (c.Const 0) true) (c.Then (c.Return (Some (c.Const 0))) c.End) c.End) (c.Then (c.Store (root.Temp 5) (c.Offset 0 c.Here) (c.Const 2)) (c.Then (c.Load 1 (root.Temp 5) (c.Offset 0 c.Here)) (c.Then (c.Free (c.Temp 5)) (c.Then (c.Set 4 (c.Const 2)) (c.Then (c.Return (Some (c.Temp 1))) c.End)))))))))) }) (s.Then 1 (s.Set ([]) ([])) s.NoBlock (s.Then 2 (s.Set ([]) ([])) s.NoBlock (s.Then 3 (s.Malloc name_k1 ([]) ([])) (s.WithBlock (s.Then 4 (s.If ([]) ([]) ([]) ([])) (s.WithBlock (s.Then 5 (s.Return ([]) ([]) ([])) s.NoBlock s.End) (s.WithBlock (s.Then 6 (s.Absurd ([])) s.NoBlock s.End) s.NoBlock)) s.End) (s.WithBlock (s.Then 7 (s.If (0 ∷ []) ([]) ([]) ([])) (s.WithBlock (s.Then 8 (s.Subst name_k1) s.NoBlock (s.Then 9 (s.Absurd ([])) s.NoBlock s.End)) (s.WithBlock (s.Then 10 (s.Store 0 ([]) ([])) s.NoBlock (s.Then 11 (s.Load 0 ([]) ([])) s.NoBlock (s.Then 12 (s.Free 0 1 ([])) s.NoBlock (s.Then 13 (s.Set ([]) ([])) s.NoBlock (s.Then 14 (s.Return ([]) ([]) ([])) s.NoBlock s.End))))) s.NoBlock)) s.End) s.NoBlock)) s.End))) ≡ (RefusedAt 3 14 1)
unfolding computing
random_7 = refl

random_8 : body_verdict (record { predicates = ([]); specs = ((record { is_void = false; name = name_main; params = ([]); vars = []; pre = (record { opened = []; facts = ([]); locals = []; items = ([]) }); post = (record { opened = []; facts = ([]); locals = []; items = ([]) }) }) ∷ []) }) (record { is_void = false; name = name_main; params = ([]); vars = []; pre = (record { opened = []; facts = ([]); locals = []; items = ([]) }); post = (record { opened = []; facts = ([]); locals = []; items = ([]) }) }) (record { temps = (name_s ∷ name_t ∷ name_i ∷ name_x1 ∷ name_d0 ∷ name_p1 ∷ name_q1 ∷ []); body = (c.Then (c.Set 0 (c.Const 0)) (c.Then (c.Set 1 (c.Const 3)) (c.Then (c.Set 0 (c.Const 3)) (c.Then (c.Malloc 5 3) (c.Then (c.If (c.Pointers (c.Temp 5) (c.Const 0) true) (c.Then (c.Return (Some (c.Const 0))) c.End) c.End) (c.Then (c.Store (root.Temp 5) (c.Offset 0 c.Here) (c.Const 2)) (c.Then (c.Load 1 (root.Temp 5) (c.Offset 0 c.Here)) (c.Then (c.Free (c.Temp 5)) (c.Then (c.Set 4 (c.Const 2)) (c.Then (c.Return (Some (c.Temp 1))) c.End)))))))))) }) (s.Then 1 (s.Set ([]) ([])) s.NoBlock (s.Then 2 (s.Set ([]) ([])) s.NoBlock (s.Then 3 (s.Set ([]) ([])) s.NoBlock (s.Then 4 (s.Malloc name_k1 ([]) ([])) (s.WithBlock (s.Then 5 (s.If ([]) ([]) ([]) ([])) (s.WithBlock (s.Then 6 (s.Return ([]) ([]) ([])) s.NoBlock s.End) (s.WithBlock (s.Then 7 (s.Absurd ([])) s.NoBlock s.End) s.NoBlock)) s.End) (s.WithBlock (s.Then 8 (s.If (64 ∷ []) ([]) ([]) ([])) (s.WithBlock (s.Then 9 (s.Subst name_k1) s.NoBlock (s.Then 10 (s.Absurd ([])) s.NoBlock s.End)) (s.WithBlock (s.Then 11 (s.Store 0 ([]) ([])) s.NoBlock (s.Then 12 (s.Load 0 ([]) ([])) s.NoBlock (s.Then 13 (s.Free 0 1 ([])) s.NoBlock (s.Then 14 (s.Set ([]) ([])) s.NoBlock (s.Then 15 (s.Return ([]) ([]) ([])) s.NoBlock s.End))))) s.NoBlock)) s.End) s.NoBlock)) s.End)))) ≡ (RefusedAt 8 5 2)
unfolding computing
random_8 = refl

random_9 : body_verdict (record { predicates = ([]); specs = ((record { is_void = false; name = name_main; params = ([]); vars = []; pre = (record { opened = []; facts = ([]); locals = []; items = ([]) }); post = (record { opened = []; facts = ([]); locals = []; items = ([]) }) }) ∷ []) }) (record { is_void = false; name = name_main; params = ([]); vars = []; pre = (record { opened = []; facts = ([]); locals = []; items = ([]) }); post = (record { opened = []; facts = ([]); locals = []; items = ([]) }) }) (record { temps = (name_s ∷ name_t ∷ name_i ∷ name_x1 ∷ name_d0 ∷ name_p1 ∷ name_q1 ∷ []); body = (c.Then (c.Set 0 (c.Const 0)) (c.Then (c.Set 1 (c.Const 3)) (c.Then (c.Set 0 (c.Const 3)) (c.Then (c.Malloc 5 3) (c.Then (c.If (c.Pointers (c.Temp 5) (c.Const 0) true) (c.Then (c.Return (Some (c.Const 0))) c.End) c.End) (c.Then (c.Store (root.Temp 5) (c.Offset 0 c.Here) (c.Const 2)) (c.Then (c.Load 1 (root.Temp 5) (c.Offset 0 c.Here)) (c.Then (c.Free (c.Temp 5)) (c.Then (c.Set 4 (c.Const 2)) (c.Then (c.Return (Some (c.Temp 1))) c.End)))))))))) }) (s.Then 1 (s.Set ([]) ([])) s.NoBlock (s.Then 2 (s.Set ([]) ([])) s.NoBlock (s.Then 3 (s.Set ([]) ([])) s.NoBlock (s.Then 4 (s.Malloc name_k1 ([]) ([])) (s.WithBlock (s.Then 5 (s.If ([]) ([]) ([]) ([])) (s.WithBlock (s.Then 6 (s.Return ([]) ([]) ([])) s.NoBlock s.End) (s.WithBlock (s.Then 7 (s.Absurd ([])) s.NoBlock s.End) s.NoBlock)) s.End) (s.WithBlock (s.Then 8 (s.If (0 ∷ []) ([]) ([]) ([])) (s.WithBlock (s.Then 9 (s.Subst name_k1) s.NoBlock (s.Then 10 (s.Absurd ([])) s.NoBlock s.End)) (s.WithBlock (s.Then 11 (s.Store 0 ([]) ([])) s.NoBlock (s.Then 12 (s.Load 0 ([]) ([])) s.NoBlock (s.Then 13 (s.Free 1 1 ([])) s.NoBlock (s.Then 14 (s.Set ([]) ([])) s.NoBlock (s.Then 15 (s.Return ([]) ([]) ([])) s.NoBlock s.End))))) s.NoBlock)) s.End) s.NoBlock)) s.End)))) ≡ (RefusedAt 13 15 1)
unfolding computing
random_9 = refl

random_10 : body_verdict (record { predicates = ([]); specs = ((record { is_void = false; name = name_main; params = ([]); vars = []; pre = (record { opened = []; facts = ([]); locals = []; items = ([]) }); post = (record { opened = []; facts = ([]); locals = []; items = ([]) }) }) ∷ []) }) (record { is_void = false; name = name_main; params = ([]); vars = []; pre = (record { opened = []; facts = ([]); locals = []; items = ([]) }); post = (record { opened = []; facts = ([]); locals = []; items = ([]) }) }) (record { temps = (name_s ∷ name_t ∷ name_i ∷ name_x1 ∷ name_d0 ∷ name_p1 ∷ name_q1 ∷ []); body = (c.Then (c.Set 0 (c.Const 0)) (c.Then (c.Set 1 (c.Const 3)) (c.Then (c.Set 0 (c.Const 3)) (c.Then (c.Malloc 5 3) (c.Then (c.If (c.Pointers (c.Temp 5) (c.Const 0) true) (c.Then (c.Return (Some (c.Const 0))) c.End) c.End) (c.Then (c.Store (root.Temp 5) (c.Offset 0 c.Here) (c.Const 2)) (c.Then (c.Load 1 (root.Temp 5) (c.Offset 0 c.Here)) (c.Then (c.Free (c.Temp 5)) (c.Then (c.Set 4 (c.Const 2)) (c.Then (c.Return (Some (c.Temp 1))) c.End)))))))))) }) (s.Then 1 (s.Set ([]) ([])) s.NoBlock (s.Then 2 (s.Set ([]) ([])) s.NoBlock (s.Then 3 (s.Set ([]) ([])) s.NoBlock (s.Then 4 (s.Malloc name_k1 ([]) ([])) (s.WithBlock (s.Then 5 (s.If ([]) ([]) ([]) ([])) (s.WithBlock (s.Then 6 (s.Return ([]) ([]) ([])) s.NoBlock s.End) (s.WithBlock s.End s.NoBlock)) s.End) (s.WithBlock (s.Then 7 (s.If (0 ∷ []) ([]) ([]) ([])) (s.WithBlock (s.Then 8 (s.Subst name_k1) s.NoBlock (s.Then 9 (s.Absurd ([])) s.NoBlock s.End)) (s.WithBlock (s.Then 10 (s.Store 0 ([]) ([])) s.NoBlock (s.Then 11 (s.Load 0 ([]) ([])) s.NoBlock (s.Then 12 (s.Free 0 1 ([])) s.NoBlock (s.Then 13 (s.Set ([]) ([])) s.NoBlock (s.Then 14 (s.Return ([]) ([]) ([])) s.NoBlock s.End))))) s.NoBlock)) s.End) s.NoBlock)) s.End)))) ≡ (RefusedAt 7 0 10)
unfolding computing
random_10 = refl

random_11 : body_verdict (record { predicates = ([]); specs = ((record { is_void = false; name = name_main; params = ([]); vars = []; pre = (record { opened = []; facts = ([]); locals = []; items = ((Data (Number (pos 64)) (Global name_g) (Of2 binary.Cons (Of unary.Vi (Number (pos 3))) Nil)) ∷ (Data (Number (pos 64)) (Global name_x) (Of2 binary.Cons (Of unary.Vi (Number (pos 3))) Nil)) ∷ []) }); post = (record { opened = []; facts = ((Rel relation.Eq (Var 0 sort.Val) (Of unary.Vi (Number (pos 2)))) ∷ []); locals = []; items = ((Data (Number (pos 64)) (Global name_g) (Of2 binary.Cons (Of unary.Vi (Number (pos 3))) Nil)) ∷ (Data (Number (pos 64)) (Global name_x) (Of2 binary.Cons (Of unary.Vi (Number (pos 3))) Nil)) ∷ []) }) }) ∷ []) }) (record { is_void = false; name = name_main; params = ([]); vars = []; pre = (record { opened = []; facts = ([]); locals = []; items = ((Data (Number (pos 64)) (Global name_g) (Of2 binary.Cons (Of unary.Vi (Number (pos 3))) Nil)) ∷ (Data (Number (pos 64)) (Global name_x) (Of2 binary.Cons (Of unary.Vi (Number (pos 3))) Nil)) ∷ []) }); post = (record { opened = []; facts = ((Rel relation.Eq (Var 0 sort.Val) (Of unary.Vi (Number (pos 2)))) ∷ []); locals = []; items = ((Data (Number (pos 64)) (Global name_g) (Of2 binary.Cons (Of unary.Vi (Number (pos 3))) Nil)) ∷ (Data (Number (pos 64)) (Global name_x) (Of2 binary.Cons (Of unary.Vi (Number (pos 3))) Nil)) ∷ []) }) }) (record { temps = (name_s ∷ name_t ∷ name_i ∷ name_x1 ∷ name_d0 ∷ name_p1 ∷ name_q1 ∷ []); body = (c.Then (c.Set 0 (c.Const 2)) (c.Then (c.Set 1 (c.Const 2)) (c.Then (c.Load 0 (root.Global name_x 1) c.Here) (c.Then (c.Return (Some (c.Temp 1))) c.End)))) }) (s.Then 1 (s.Set ([]) ([])) s.NoBlock (s.Then 2 (s.Set ([]) ([])) s.NoBlock (s.Then 3 (s.Load 1 ([]) ([])) s.NoBlock (s.Then 4 (s.Pose (record { opened = []; facts = ([]); locals = ((name_s, (Of unary.Vi (Number (pos 3)))) ∷ (name_t, (Of unary.Vi (Number (pos 2)))) ∷ []); items = ((Data (Number (pos 64)) (Global name_g) (Of2 binary.Cons (Of unary.Vi (Number (pos 3))) Nil)) ∷ (Data (Number (pos 64)) (Global name_x) (Of2 binary.Cons (Of unary.Vi (Number (pos 3))) Nil)) ∷ []) }) ([]) ([])) (s.WithBlock (s.Then 5 (s.Meet ([]) ([])) s.NoBlock s.End) s.NoBlock) (s.Then 6 (s.Return ([]) ([]) ([])) s.NoBlock s.End))))) ≡ Accepted
unfolding computing
random_11 = refl

random_12 : body_verdict (record { predicates = ([]); specs = ((record { is_void = false; name = name_main; params = ([]); vars = []; pre = (record { opened = []; facts = ([]); locals = []; items = ((Data (Number (pos 64)) (Global name_g) (Of2 binary.Cons (Of unary.Vi (Number (pos 3))) Nil)) ∷ (Data (Number (pos 64)) (Global name_x) (Of2 binary.Cons (Of unary.Vi (Number (pos 3))) Nil)) ∷ []) }); post = (record { opened = []; facts = ((Rel relation.Eq (Var 0 sort.Val) (Of unary.Vi (Number (pos 2)))) ∷ []); locals = []; items = ((Data (Number (pos 64)) (Global name_g) (Of2 binary.Cons (Of unary.Vi (Number (pos 3))) Nil)) ∷ (Data (Number (pos 64)) (Global name_x) (Of2 binary.Cons (Of unary.Vi (Number (pos 3))) Nil)) ∷ []) }) }) ∷ []) }) (record { is_void = false; name = name_main; params = ([]); vars = []; pre = (record { opened = []; facts = ([]); locals = []; items = ((Data (Number (pos 64)) (Global name_g) (Of2 binary.Cons (Of unary.Vi (Number (pos 3))) Nil)) ∷ (Data (Number (pos 64)) (Global name_x) (Of2 binary.Cons (Of unary.Vi (Number (pos 3))) Nil)) ∷ []) }); post = (record { opened = []; facts = ((Rel relation.Eq (Var 0 sort.Val) (Of unary.Vi (Number (pos 2)))) ∷ []); locals = []; items = ((Data (Number (pos 64)) (Global name_g) (Of2 binary.Cons (Of unary.Vi (Number (pos 3))) Nil)) ∷ (Data (Number (pos 64)) (Global name_x) (Of2 binary.Cons (Of unary.Vi (Number (pos 3))) Nil)) ∷ []) }) }) (record { temps = (name_s ∷ name_t ∷ name_i ∷ name_x1 ∷ name_d0 ∷ name_p1 ∷ name_q1 ∷ []); body = (c.Then (c.Set 0 (c.Const 2)) (c.Then (c.Set 1 (c.Const 2)) (c.Then (c.Load 0 (root.Global name_x 1) c.Here) (c.Then (c.Return (Some (c.Temp 1))) c.End)))) }) (s.Then 1 (s.Set ([]) ([])) s.NoBlock (s.Then 2 (s.Set ([]) ([])) s.NoBlock (s.Then 3 (s.Load 1 ([]) ([])) s.NoBlock (s.Then 4 (s.Pose (record { opened = []; facts = ([]); locals = ((name_x, (Of unary.Vi (Number (pos 3)))) ∷ (name_t, (Of unary.Vi (Number (pos 2)))) ∷ []); items = ((Data (Number (pos 64)) (Global name_g) (Of2 binary.Cons (Of unary.Vi (Number (pos 3))) Nil)) ∷ (Data (Number (pos 64)) (Global name_x) (Of2 binary.Cons (Of unary.Vi (Number (pos 3))) Nil)) ∷ []) }) ([]) ([])) (s.WithBlock (s.Then 5 (s.Meet ([]) ([])) s.NoBlock s.End) s.NoBlock) (s.Then 6 (s.Return ([]) ([]) ([])) s.NoBlock s.End))))) ≡ (RefusedAt 4 12 4)
unfolding computing
random_12 = refl

random_13 : body_verdict (record { predicates = ([]); specs = ((record { is_void = false; name = name_main; params = ([]); vars = []; pre = (record { opened = []; facts = ([]); locals = []; items = ((Data (Number (pos 64)) (Global name_g) (Of2 binary.Cons (Of unary.Vi (Number (pos 3))) Nil)) ∷ (Data (Number (pos 64)) (Global name_x) (Of2 binary.Cons (Of unary.Vi (Number (pos 3))) Nil)) ∷ []) }); post = (record { opened = []; facts = ((Rel relation.Eq (Var 0 sort.Val) (Of unary.Vi (Number (pos 2)))) ∷ []); locals = []; items = ((Data (Number (pos 64)) (Global name_g) (Of2 binary.Cons (Of unary.Vi (Number (pos 3))) Nil)) ∷ (Data (Number (pos 64)) (Global name_x) (Of2 binary.Cons (Of unary.Vi (Number (pos 3))) Nil)) ∷ []) }) }) ∷ []) }) (record { is_void = false; name = name_main; params = ([]); vars = []; pre = (record { opened = []; facts = ([]); locals = []; items = ((Data (Number (pos 64)) (Global name_g) (Of2 binary.Cons (Of unary.Vi (Number (pos 3))) Nil)) ∷ (Data (Number (pos 64)) (Global name_x) (Of2 binary.Cons (Of unary.Vi (Number (pos 3))) Nil)) ∷ []) }); post = (record { opened = []; facts = ((Rel relation.Eq (Var 0 sort.Val) (Of unary.Vi (Number (pos 2)))) ∷ []); locals = []; items = ((Data (Number (pos 64)) (Global name_g) (Of2 binary.Cons (Of unary.Vi (Number (pos 3))) Nil)) ∷ (Data (Number (pos 64)) (Global name_x) (Of2 binary.Cons (Of unary.Vi (Number (pos 3))) Nil)) ∷ []) }) }) (record { temps = (name_s ∷ name_t ∷ name_i ∷ name_x1 ∷ name_d0 ∷ name_p1 ∷ name_q1 ∷ []); body = (c.Then (c.Set 0 (c.Const 2)) (c.Then (c.Set 1 (c.Const 2)) (c.Then (c.Load 0 (root.Global name_x 1) c.Here) (c.Then (c.Return (Some (c.Temp 1))) c.End)))) }) (s.Then 1 (s.Set ([]) ([])) s.NoBlock (s.Then 2 (s.Set ([]) ([])) s.NoBlock (s.Then 3 (s.Load 1 ([]) ([])) s.NoBlock (s.Then 4 (s.Pose (record { opened = []; facts = ([]); locals = ((name_s, (Of unary.Vi (Number (pos 3)))) ∷ (name_t, (Of unary.Vi (Number (pos 2)))) ∷ []); items = ((Data (Number (pos 64)) (Global name_g) (Of2 binary.Cons (Of unary.Vi (Number (pos 3))) Nil)) ∷ (Data (Number (pos 64)) (Global name_t) (Of2 binary.Cons (Of unary.Vi (Number (pos 3))) Nil)) ∷ []) }) ([]) ([])) (s.WithBlock (s.Then 5 (s.Meet ([]) ([])) s.NoBlock s.End) s.NoBlock) (s.Then 6 (s.Return ([]) ([]) ([])) s.NoBlock s.End))))) ≡ (RefusedAt 5 37 5)
unfolding computing
random_13 = refl

random_14 : body_verdict (record { predicates = ([]); specs = ((record { is_void = false; name = name_main; params = ([]); vars = []; pre = (record { opened = []; facts = ([]); locals = []; items = ((Data (Number (pos 64)) (Global name_g) (Of2 binary.Cons (Of unary.Vi (Number (pos 3))) Nil)) ∷ (Data (Number (pos 64)) (Global name_x) (Of2 binary.Cons (Of unary.Vi (Number (pos 3))) Nil)) ∷ []) }); post = (record { opened = []; facts = ((Rel relation.Eq (Var 0 sort.Val) (Of unary.Vi (Number (pos 2)))) ∷ []); locals = []; items = ((Data (Number (pos 64)) (Global name_g) (Of2 binary.Cons (Of unary.Vi (Number (pos 3))) Nil)) ∷ (Data (Number (pos 64)) (Global name_x) (Of2 binary.Cons (Of unary.Vi (Number (pos 3))) Nil)) ∷ []) }) }) ∷ []) }) (record { is_void = false; name = name_main; params = ([]); vars = []; pre = (record { opened = []; facts = ([]); locals = []; items = ((Data (Number (pos 64)) (Global name_g) (Of2 binary.Cons (Of unary.Vi (Number (pos 3))) Nil)) ∷ (Data (Number (pos 64)) (Global name_x) (Of2 binary.Cons (Of unary.Vi (Number (pos 3))) Nil)) ∷ []) }); post = (record { opened = []; facts = ((Rel relation.Eq (Var 0 sort.Val) (Of unary.Vi (Number (pos 2)))) ∷ []); locals = []; items = ((Data (Number (pos 64)) (Global name_g) (Of2 binary.Cons (Of unary.Vi (Number (pos 3))) Nil)) ∷ (Data (Number (pos 64)) (Global name_x) (Of2 binary.Cons (Of unary.Vi (Number (pos 3))) Nil)) ∷ []) }) }) (record { temps = (name_s ∷ name_t ∷ name_i ∷ name_x1 ∷ name_d0 ∷ name_p1 ∷ name_q1 ∷ []); body = (c.Then (c.Set 0 (c.Const 2)) (c.Then (c.Set 1 (c.Const 2)) (c.Then (c.Load 0 (root.Global name_x 1) c.Here) (c.Then (c.Return (Some (c.Temp 1))) c.End)))) }) (s.Then 1 (s.Set ([]) ([])) s.NoBlock (s.Then 2 (s.Set ([]) ([])) s.NoBlock (s.Then 3 (s.Load 1 ([]) ([])) s.NoBlock (s.Then 4 (s.Pose (record { opened = []; facts = ([]); locals = ((name_s, (Of unary.Vi (Number (pos 3)))) ∷ (name_t, (Of unary.Vi (Number (pos 2)))) ∷ []); items = ((Data (Number (pos 64)) (Global name_g) (Of2 binary.Cons (Of unary.Vi (Number (pos 3))) Nil)) ∷ (Data (Number (pos 64)) (Global name_x) (Of2 binary.Cons (Of unary.Vi (Number (pos 3))) Nil)) ∷ []) }) ([]) ([])) (s.WithBlock (s.Then 5 (s.Meet ([]) ([])) s.NoBlock s.End) s.NoBlock) s.End)))) ≡ (RefusedAt 6 0 10)
unfolding computing
random_14 = refl

random_15 : body_verdict (record { predicates = ([]); specs = ((record { is_void = false; name = name_main; params = ([]); vars = []; pre = (record { opened = []; facts = ([]); locals = []; items = ((Data (Number (pos 64)) (Global name_g) (Of2 binary.Cons (Of unary.Vi (Number (pos 3))) Nil)) ∷ (Data (Number (pos 64)) (Global name_x) (Of2 binary.Cons (Of unary.Vi (Number (pos 3))) Nil)) ∷ []) }); post = (record { opened = []; facts = ((Rel relation.Eq (Var 0 sort.Val) (Of unary.Vi (Number (pos 2)))) ∷ []); locals = []; items = ((Data (Number (pos 64)) (Global name_g) (Of2 binary.Cons (Of unary.Vi (Number (pos 3))) Nil)) ∷ (Data (Number (pos 64)) (Global name_x) (Of2 binary.Cons (Of unary.Vi (Number (pos 3))) Nil)) ∷ []) }) }) ∷ []) }) (record { is_void = false; name = name_main; params = ([]); vars = []; pre = (record { opened = []; facts = ([]); locals = []; items = ((Data (Number (pos 64)) (Global name_g) (Of2 binary.Cons (Of unary.Vi (Number (pos 3))) Nil)) ∷ (Data (Number (pos 64)) (Global name_x) (Of2 binary.Cons (Of unary.Vi (Number (pos 3))) Nil)) ∷ []) }); post = (record { opened = []; facts = ((Rel relation.Eq (Var 0 sort.Val) (Of unary.Vi (Number (pos 2)))) ∷ []); locals = []; items = ((Data (Number (pos 64)) (Global name_g) (Of2 binary.Cons (Of unary.Vi (Number (pos 3))) Nil)) ∷ (Data (Number (pos 64)) (Global name_x) (Of2 binary.Cons (Of unary.Vi (Number (pos 3))) Nil)) ∷ []) }) }) (record { temps = (name_s ∷ name_t ∷ name_i ∷ name_x1 ∷ name_d0 ∷ name_p1 ∷ name_q1 ∷ []); body = (c.Then (c.Set 0 (c.Const 2)) (c.Then (c.Set 1 (c.Const 2)) (c.Then (c.Load 0 (root.Global name_x 1) c.Here) (c.Then (c.Return (Some (c.Temp 1))) c.End)))) }) (s.Then 1 (s.Set ([]) ([])) s.NoBlock (s.Then 2 (s.Set ([]) ([])) s.NoBlock (s.Then 3 (s.Pose (record { opened = []; facts = ([]); locals = ((name_s, (Of unary.Vi (Number (pos 3)))) ∷ (name_t, (Of unary.Vi (Number (pos 2)))) ∷ []); items = ((Data (Number (pos 64)) (Global name_g) (Of2 binary.Cons (Of unary.Vi (Number (pos 3))) Nil)) ∷ (Data (Number (pos 64)) (Global name_x) (Of2 binary.Cons (Of unary.Vi (Number (pos 3))) Nil)) ∷ []) }) ([]) ([])) (s.WithBlock (s.Then 4 (s.Meet ([]) ([])) s.NoBlock s.End) s.NoBlock) (s.Then 5 (s.Return ([]) ([]) ([])) s.NoBlock s.End)))) ≡ (RefusedAt 4 37 4)
unfolding computing
random_15 = refl

random_16 : body_verdict (record { predicates = ([]); specs = ((record { is_void = false; name = name_main; params = ([]); vars = []; pre = (record { opened = []; facts = ([]); locals = []; items = ((Data (Number (pos 64)) (Global name_g) (Of2 binary.Cons (Of unary.Vi (Number (pos 3))) Nil)) ∷ (Data (Number (pos 64)) (Global name_x) (Of2 binary.Cons (Of unary.Vi (Number (pos 3))) Nil)) ∷ []) }); post = (record { opened = []; facts = ((Rel relation.Eq (Var 0 sort.Val) (Of unary.Vi (Number (pos 2)))) ∷ []); locals = []; items = ((Data (Number (pos 64)) (Global name_g) (Of2 binary.Cons (Of unary.Vi (Number (pos 3))) Nil)) ∷ (Data (Number (pos 64)) (Global name_x) (Of2 binary.Cons (Of unary.Vi (Number (pos 3))) Nil)) ∷ []) }) }) ∷ []) }) (record { is_void = false; name = name_main; params = ([]); vars = []; pre = (record { opened = []; facts = ([]); locals = []; items = ((Data (Number (pos 64)) (Global name_g) (Of2 binary.Cons (Of unary.Vi (Number (pos 3))) Nil)) ∷ (Data (Number (pos 64)) (Global name_x) (Of2 binary.Cons (Of unary.Vi (Number (pos 3))) Nil)) ∷ []) }); post = (record { opened = []; facts = ((Rel relation.Eq (Var 0 sort.Val) (Of unary.Vi (Number (pos 2)))) ∷ []); locals = []; items = ((Data (Number (pos 64)) (Global name_g) (Of2 binary.Cons (Of unary.Vi (Number (pos 3))) Nil)) ∷ (Data (Number (pos 64)) (Global name_x) (Of2 binary.Cons (Of unary.Vi (Number (pos 3))) Nil)) ∷ []) }) }) (record { temps = (name_s ∷ name_t ∷ name_i ∷ name_x1 ∷ name_d0 ∷ name_p1 ∷ name_q1 ∷ []); body = (c.Then (c.Set 0 (c.Const 2)) (c.Then (c.Set 1 (c.Const 2)) (c.Then (c.Load 0 (root.Global name_x 1) c.Here) (c.Then (c.Return (Some (c.Temp 1))) c.End)))) }) (s.Then 1 (s.Set ([]) ([])) s.NoBlock (s.Then 2 (s.Set ([]) ([])) s.NoBlock (s.Then 3 (s.Load 1 ([]) ([])) s.NoBlock (s.Then 4 (s.Pose (record { opened = []; facts = ([]); locals = ((name_s, (Of unary.Vi (Number (pos 3)))) ∷ (name_t, (Of unary.Vi (Number (pos 2)))) ∷ []); items = ((Data (Number (pos 1)) (Global name_g) (Of2 binary.Cons (Of unary.Vi (Number (pos 3))) Nil)) ∷ (Data (Number (pos 64)) (Global name_x) (Of2 binary.Cons (Of unary.Vi (Number (pos 3))) Nil)) ∷ []) }) ([]) ([])) (s.WithBlock (s.Then 5 (s.Meet ([]) ([])) s.NoBlock s.End) s.NoBlock) (s.Then 6 (s.Return ([]) ([]) ([])) s.NoBlock s.End))))) ≡ (RefusedAt 5 37 5)
unfolding computing
random_16 = refl

random_17 : body_verdict (record { predicates = ([]); specs = ((record { is_void = false; name = name_main; params = ([]); vars = []; pre = (record { opened = []; facts = ([]); locals = []; items = ((Data (Number (pos 64)) (Global name_g) (Of2 binary.Cons (Of unary.Vi (Number (pos 3))) Nil)) ∷ (Data (Number (pos 64)) (Global name_x) (Of2 binary.Cons (Of unary.Vi (Number (pos 3))) Nil)) ∷ []) }); post = (record { opened = []; facts = ((Rel relation.Eq (Var 0 sort.Val) (Of unary.Vi (Number (pos 2)))) ∷ []); locals = []; items = ((Data (Number (pos 64)) (Global name_g) (Of2 binary.Cons (Of unary.Vi (Number (pos 3))) Nil)) ∷ (Data (Number (pos 64)) (Global name_x) (Of2 binary.Cons (Of unary.Vi (Number (pos 3))) Nil)) ∷ []) }) }) ∷ []) }) (record { is_void = false; name = name_main; params = ([]); vars = []; pre = (record { opened = []; facts = ([]); locals = []; items = ((Data (Number (pos 64)) (Global name_g) (Of2 binary.Cons (Of unary.Vi (Number (pos 3))) Nil)) ∷ (Data (Number (pos 64)) (Global name_x) (Of2 binary.Cons (Of unary.Vi (Number (pos 3))) Nil)) ∷ []) }); post = (record { opened = []; facts = ((Rel relation.Eq (Var 0 sort.Val) (Of unary.Vi (Number (pos 2)))) ∷ []); locals = []; items = ((Data (Number (pos 64)) (Global name_g) (Of2 binary.Cons (Of unary.Vi (Number (pos 3))) Nil)) ∷ (Data (Number (pos 64)) (Global name_x) (Of2 binary.Cons (Of unary.Vi (Number (pos 3))) Nil)) ∷ []) }) }) (record { temps = (name_s ∷ name_t ∷ name_i ∷ name_x1 ∷ name_d0 ∷ name_p1 ∷ name_q1 ∷ []); body = (c.Then (c.Set 0 (c.Const 2)) (c.Then (c.Set 1 (c.Const 2)) (c.Then (c.Load 0 (root.Global name_x 1) c.Here) (c.Then (c.Return (Some (c.Temp 1))) c.End)))) }) (s.Then 1 (s.Set ([]) ([])) s.NoBlock (s.Then 2 (s.Return ([]) ([]) ([])) s.NoBlock (s.Then 3 (s.Load 1 ([]) ([])) s.NoBlock (s.Then 4 (s.Pose (record { opened = []; facts = ([]); locals = ((name_s, (Of unary.Vi (Number (pos 3)))) ∷ (name_t, (Of unary.Vi (Number (pos 2)))) ∷ []); items = ((Data (Number (pos 64)) (Global name_g) (Of2 binary.Cons (Of unary.Vi (Number (pos 3))) Nil)) ∷ (Data (Number (pos 64)) (Global name_x) (Of2 binary.Cons (Of unary.Vi (Number (pos 3))) Nil)) ∷ []) }) ([]) ([])) (s.WithBlock (s.Then 5 (s.Meet ([]) ([])) s.NoBlock s.End) s.NoBlock) (s.Then 6 (s.Set ([]) ([])) s.NoBlock s.End))))) ≡ (RefusedAt 2 9 1)
unfolding computing
random_17 = refl

random_18 : body_verdict (record { predicates = ([]); specs = ((record { is_void = false; name = name_main; params = ([]); vars = []; pre = (record { opened = []; facts = ([]); locals = []; items = ((Data (Number (pos 64)) (Global name_g) (Of2 binary.Cons (Of unary.Vi (Number (pos 3))) Nil)) ∷ (Data (Number (pos 64)) (Global name_x) (Of2 binary.Cons (Of unary.Vi (Number (pos 3))) Nil)) ∷ []) }); post = (record { opened = []; facts = ((Rel relation.Eq (Var 0 sort.Val) (Of unary.Vi (Number (pos 2)))) ∷ []); locals = []; items = ((Data (Number (pos 64)) (Global name_g) (Of2 binary.Cons (Of unary.Vi (Number (pos 3))) Nil)) ∷ (Data (Number (pos 64)) (Global name_x) (Of2 binary.Cons (Of unary.Vi (Number (pos 3))) Nil)) ∷ []) }) }) ∷ []) }) (record { is_void = false; name = name_main; params = ([]); vars = []; pre = (record { opened = []; facts = ([]); locals = []; items = ((Data (Number (pos 64)) (Global name_g) (Of2 binary.Cons (Of unary.Vi (Number (pos 3))) Nil)) ∷ (Data (Number (pos 64)) (Global name_x) (Of2 binary.Cons (Of unary.Vi (Number (pos 3))) Nil)) ∷ []) }); post = (record { opened = []; facts = ((Rel relation.Eq (Var 0 sort.Val) (Of unary.Vi (Number (pos 2)))) ∷ []); locals = []; items = ((Data (Number (pos 64)) (Global name_g) (Of2 binary.Cons (Of unary.Vi (Number (pos 3))) Nil)) ∷ (Data (Number (pos 64)) (Global name_x) (Of2 binary.Cons (Of unary.Vi (Number (pos 3))) Nil)) ∷ []) }) }) (record { temps = (name_s ∷ name_t ∷ name_i ∷ name_x1 ∷ name_d0 ∷ name_p1 ∷ name_q1 ∷ []); body = (c.Then (c.Set 0 (c.Const 2)) (c.Then (c.Set 1 (c.Const 2)) (c.Then (c.Load 0 (root.Global name_x 1) c.Here) (c.Then (c.Return (Some (c.Temp 1))) c.End)))) }) (s.Then 1 (s.Set ([]) ([])) s.NoBlock (s.Then 2 (s.Set ([]) ([])) s.NoBlock (s.Then 3 (s.Load 2 ([]) ([])) s.NoBlock (s.Then 4 (s.Pose (record { opened = []; facts = ([]); locals = ((name_s, (Of unary.Vi (Number (pos 3)))) ∷ (name_t, (Of unary.Vi (Number (pos 2)))) ∷ []); items = ((Data (Number (pos 64)) (Global name_g) (Of2 binary.Cons (Of unary.Vi (Number (pos 3))) Nil)) ∷ (Data (Number (pos 64)) (Global name_x) (Of2 binary.Cons (Of unary.Vi (Number (pos 3))) Nil)) ∷ []) }) ([]) ([])) (s.WithBlock (s.Then 5 (s.Meet ([]) ([])) s.NoBlock s.End) s.NoBlock) (s.Then 6 (s.Return ([]) ([]) ([])) s.NoBlock s.End))))) ≡ (RefusedAt 3 3 1)
unfolding computing
random_18 = refl

random_19 : body_verdict (record { predicates = ([]); specs = ((record { is_void = false; name = name_main; params = ([]); vars = []; pre = (record { opened = []; facts = ([]); locals = []; items = ((Data (Number (pos 64)) (Global name_g) (Of2 binary.Cons (Of unary.Vi (Number (pos 3))) Nil)) ∷ (Data (Number (pos 64)) (Global name_x) (Of2 binary.Cons (Of unary.Vi (Number (pos 3))) Nil)) ∷ []) }); post = (record { opened = []; facts = ((Rel relation.Eq (Var 0 sort.Val) (Of unary.Vi (Number (pos 2)))) ∷ []); locals = []; items = ((Data (Number (pos 64)) (Global name_g) (Of2 binary.Cons (Of unary.Vi (Number (pos 3))) Nil)) ∷ (Data (Number (pos 64)) (Global name_x) (Of2 binary.Cons (Of unary.Vi (Number (pos 3))) Nil)) ∷ []) }) }) ∷ []) }) (record { is_void = false; name = name_main; params = ([]); vars = []; pre = (record { opened = []; facts = ([]); locals = []; items = ((Data (Number (pos 64)) (Global name_g) (Of2 binary.Cons (Of unary.Vi (Number (pos 3))) Nil)) ∷ (Data (Number (pos 64)) (Global name_x) (Of2 binary.Cons (Of unary.Vi (Number (pos 3))) Nil)) ∷ []) }); post = (record { opened = []; facts = ((Rel relation.Eq (Var 0 sort.Val) (Of unary.Vi (Number (pos 2)))) ∷ []); locals = []; items = ((Data (Number (pos 64)) (Global name_g) (Of2 binary.Cons (Of unary.Vi (Number (pos 3))) Nil)) ∷ (Data (Number (pos 64)) (Global name_x) (Of2 binary.Cons (Of unary.Vi (Number (pos 3))) Nil)) ∷ []) }) }) (record { temps = (name_s ∷ name_t ∷ name_i ∷ name_x1 ∷ name_d0 ∷ name_p1 ∷ name_q1 ∷ []); body = (c.Then (c.Set 0 (c.Const 2)) (c.Then (c.Set 1 (c.Const 2)) (c.Then (c.Load 0 (root.Global name_x 1) c.Here) (c.Then (c.Return (Some (c.Temp 1))) c.End)))) }) (s.Then 1 (s.Set ([]) ([])) s.NoBlock (s.Then 2 (s.Set ([]) ([])) s.NoBlock (s.Then 3 (s.Load 1 ([]) ([])) s.NoBlock (s.Then 4 (s.Pose (record { opened = []; facts = ([]); locals = ((name_s, (Of unary.Vi (Number (pos 3)))) ∷ (name_t, (Of unary.Vi (Number (pos 2)))) ∷ []); items = ((Data (Number (pos 64)) (Global name_g) (Of2 binary.Cons (Of unary.Vi (Number (pos 3))) Nil)) ∷ (Data (Number (pos 64)) (Global name_x) (Of2 binary.Cons (Of unary.Vi (Number (pos 3))) Nil)) ∷ []) }) ([]) ([])) (s.WithBlock (s.Then 5 (s.Meet ([]) ([])) s.NoBlock s.End) s.NoBlock) (s.Then 6 (s.Naming name_zz (Number (pos 1))) s.NoBlock s.End))))) ≡ (RefusedAt 7 0 10)
unfolding computing
random_19 = refl

random_20 : body_verdict (record { predicates = ([]); specs = ((record { is_void = false; name = name_main; params = ([]); vars = []; pre = (record { opened = []; facts = ([]); locals = []; items = ((Data (Number (pos 64)) (Global name_arr) (Of2 binary.Cons (Of unary.Vi (Number (pos 1))) (Of2 binary.Cons (Of unary.Vi (Number (pos 2))) (Of2 binary.Cons (Of unary.Vi (Number (pos 0))) (Of2 binary.Cons (Of unary.Vi (Number (pos 0))) Nil))))) ∷ []) }); post = (record { opened = (sort.List ∷ []); facts = ([]); locals = []; items = ((Data (Number (pos 64)) (Global name_arr) (Var 1 sort.List)) ∷ []) }) }) ∷ []) }) (record { is_void = false; name = name_main; params = ([]); vars = []; pre = (record { opened = []; facts = ([]); locals = []; items = ((Data (Number (pos 64)) (Global name_arr) (Of2 binary.Cons (Of unary.Vi (Number (pos 1))) (Of2 binary.Cons (Of unary.Vi (Number (pos 2))) (Of2 binary.Cons (Of unary.Vi (Number (pos 0))) (Of2 binary.Cons (Of unary.Vi (Number (pos 0))) Nil))))) ∷ []) }); post = (record { opened = (sort.List ∷ []); facts = ([]); locals = []; items = ((Data (Number (pos 64)) (Global name_arr) (Var 1 sort.List)) ∷ []) }) }) (record { temps = (name_s ∷ name_t ∷ name_i ∷ name_x1 ∷ name_d0 ∷ name_p1 ∷ name_q1 ∷ []); body = (c.Then (c.Set 0 (c.Const 0)) (c.Then (c.Set 1 (c.Const 0)) (c.Then (c.Set 2 (c.Const 0)) (c.Then (c.Loop (c.Then (c.If (c.Nonzero kind.Signed (c.Binary two.Lt kind.Signed (c.Temp 2) (c.Const 1))) (c.Then (c.Set 4 (c.Binary two.Add kind.Signed (c.Temp 2) (c.Const 1))) (c.Then (c.Set 2 (c.Binary two.Add kind.Signed (c.Temp 2) (c.Const 1))) c.End)) (c.Then c.Break c.End)) c.End)) (c.Then (c.Return (Some (c.Temp 0))) c.End))))) }) (s.Then 1 (s.Set ([]) ([])) s.NoBlock (s.Then 2 (s.Set ([]) ([])) s.NoBlock (s.Then 3 (s.Set ([]) ([])) s.NoBlock (s.Then 4 (s.While (record { opened = (sort.Int ∷ []); facts = ((Rel relation.Le (Number (pos 0)) (Var 0 sort.Int)) ∷ (Rel relation.Le (Var 0 sort.Int) (Number (pos 1))) ∷ []); locals = ((name_s, (Of unary.Vi (Number (pos 0)))) ∷ (name_t, (Of unary.Vi (Number (pos 0)))) ∷ (name_i, (Of unary.Vi (Var 0 sort.Int))) ∷ []); items = ((Data (Number (pos 64)) (Global name_arr) (Of2 binary.Cons (Of unary.Vi (Number (pos 1))) (Of2 binary.Cons (Of unary.Vi (Number (pos 2))) (Of2 binary.Cons (Of unary.Vi (Number (pos 0))) (Of2 binary.Cons (Of unary.Vi (Number (pos 0))) Nil))))) ∷ []) }) (record { opened = (sort.Int ∷ []); facts = ((Rel relation.Le (Number (pos 0)) (Var 0 sort.Int)) ∷ (Rel relation.Le (Var 0 sort.Int) (Number (pos 1))) ∷ (Rel relation.Le (Number (pos 1)) (Var 0 sort.Int)) ∷ []); locals = ((name_s, (Of unary.Vi (Number (pos 0)))) ∷ (name_t, (Of unary.Vi (Number (pos 0)))) ∷ (name_i, (Of unary.Vi (Var 0 sort.Int))) ∷ []); items = ((Data (Number (pos 64)) (Global name_arr) (Of2 binary.Cons (Of unary.Vi (Number (pos 1))) (Of2 binary.Cons (Of unary.Vi (Number (pos 2))) (Of2 binary.Cons (Of unary.Vi (Number (pos 0))) (Of2 binary.Cons (Of unary.Vi (Number (pos 0))) Nil))))) ∷ []) }) (name_k2 ∷ []) ([]) (name_k1 ∷ [])) (s.WithBlock (s.Then 5 (s.Meet ((Number (pos 0)) ∷ []) ([])) s.NoBlock s.End) (s.WithBlock (s.Then 6 (s.If ([]) ((record { lines = ((line.Comb (((pos 1), 0) ∷ ((pos 1), 2) ∷ [])) ∷ []) }) ∷ (record { lines = ((line.Comb (((pos 1), 1) ∷ ((pos 1), 2) ∷ [])) ∷ []) }) ∷ []) ([]) ([])) (s.WithBlock (s.Then 7 (s.Set ([]) ((record { lines = ((line.Comb (((pos 1), 0) ∷ ((pos 1), 3) ∷ [])) ∷ []) }) ∷ (record { lines = ((line.Comb (((pos 1), 1) ∷ ((pos 1), 3) ∷ [])) ∷ []) }) ∷ (record { lines = ((line.Comb (((pos 1), 0) ∷ ((pos 1), 3) ∷ [])) ∷ []) }) ∷ (record { lines = ((line.Comb (((pos 1), 1) ∷ ((pos 1), 3) ∷ [])) ∷ []) }) ∷ [])) s.NoBlock (s.Then 8 (s.Set ([]) ((record { lines = ((line.Comb (((pos 1), 0) ∷ ((pos 1), 3) ∷ [])) ∷ []) }) ∷ (record { lines = ((line.Comb (((pos 1), 1) ∷ ((pos 1), 3) ∷ [])) ∷ []) }) ∷ (record { lines = ((line.Comb (((pos 1), 0) ∷ ((pos 1), 3) ∷ [])) ∷ []) }) ∷ (record { lines = ((line.Comb (((pos 1), 1) ∷ ((pos 1), 3) ∷ [])) ∷ []) }) ∷ [])) s.NoBlock (s.Then 9 (s.Fall ((Of2 binary.Add (Named name_k1) (Number (pos 1))) ∷ []) ((record { lines = ((line.Comb (((pos 1), 0) ∷ ((pos 1), 3) ∷ [])) ∷ []) }) ∷ [])) s.NoBlock s.End))) (s.WithBlock (s.Then 10 (s.Break ((Named name_k1) ∷ []) ([])) s.NoBlock s.End) s.NoBlock)) s.End) s.NoBlock)) (s.Then 11 (s.Return ((Of2 binary.Cons (Of unary.Vi (Number (pos 1))) (Of2 binary.Cons (Of unary.Vi (Number (pos 2))) (Of2 binary.Cons (Of unary.Vi (Number (pos 0))) (Of2 binary.Cons (Of unary.Vi (Number (pos 0))) Nil)))) ∷ []) ([]) ([])) s.NoBlock s.End))))) ≡ Accepted
unfolding computing
random_20 = refl

random_21 : body_verdict (record { predicates = ([]); specs = ((record { is_void = false; name = name_main; params = ([]); vars = []; pre = (record { opened = []; facts = ([]); locals = []; items = ((Data (Number (pos 64)) (Global name_arr) (Of2 binary.Cons (Of unary.Vi (Number (pos 1))) (Of2 binary.Cons (Of unary.Vi (Number (pos 2))) (Of2 binary.Cons (Of unary.Vi (Number (pos 0))) (Of2 binary.Cons (Of unary.Vi (Number (pos 0))) Nil))))) ∷ []) }); post = (record { opened = (sort.List ∷ []); facts = ([]); locals = []; items = ((Data (Number (pos 64)) (Global name_arr) (Var 1 sort.List)) ∷ []) }) }) ∷ []) }) (record { is_void = false; name = name_main; params = ([]); vars = []; pre = (record { opened = []; facts = ([]); locals = []; items = ((Data (Number (pos 64)) (Global name_arr) (Of2 binary.Cons (Of unary.Vi (Number (pos 1))) (Of2 binary.Cons (Of unary.Vi (Number (pos 2))) (Of2 binary.Cons (Of unary.Vi (Number (pos 0))) (Of2 binary.Cons (Of unary.Vi (Number (pos 0))) Nil))))) ∷ []) }); post = (record { opened = (sort.List ∷ []); facts = ([]); locals = []; items = ((Data (Number (pos 64)) (Global name_arr) (Var 1 sort.List)) ∷ []) }) }) (record { temps = (name_s ∷ name_t ∷ name_i ∷ name_x1 ∷ name_d0 ∷ name_p1 ∷ name_q1 ∷ []); body = (c.Then (c.Set 0 (c.Const 0)) (c.Then (c.Set 1 (c.Const 0)) (c.Then (c.Set 2 (c.Const 0)) (c.Then (c.Loop (c.Then (c.If (c.Nonzero kind.Signed (c.Binary two.Lt kind.Signed (c.Temp 2) (c.Const 1))) (c.Then (c.Set 4 (c.Binary two.Add kind.Signed (c.Temp 2) (c.Const 1))) (c.Then (c.Set 2 (c.Binary two.Add kind.Signed (c.Temp 2) (c.Const 1))) c.End)) (c.Then c.Break c.End)) c.End)) (c.Then (c.Return (Some (c.Temp 0))) c.End))))) }) (s.Then 1 (s.Set ([]) ([])) s.NoBlock (s.Then 2 (s.Set ([]) ([])) s.NoBlock (s.Then 3 (s.Set ([]) ([])) s.NoBlock (s.Then 4 (s.While (record { opened = (sort.Int ∷ []); facts = ((Rel relation.Le (Number (pos 0)) (Var 0 sort.Int)) ∷ (Rel relation.Le (Var 0 sort.Int) (Number (pos 1))) ∷ []); locals = ((name_s, (Of unary.Vi (Number (pos 0)))) ∷ (name_t, (Of unary.Vi (Number (pos 0)))) ∷ (name_i, (Of unary.Vi (Var 0 sort.Int))) ∷ []); items = ((Data (Number (pos 64)) (Global name_arr) (Of2 binary.Cons (Of unary.Vi (Number (pos 1))) (Of2 binary.Cons (Of unary.Vi (Number (pos 2))) (Of2 binary.Cons (Of unary.Vi (Number (pos 0))) (Of2 binary.Cons (Of unary.Vi (Number (pos 0))) Nil))))) ∷ []) }) (record { opened = (sort.Int ∷ []); facts = ((Rel relation.Le (Number (pos 0)) (Var 0 sort.Int)) ∷ (Rel relation.Le (Var 0 sort.Int) (Number (pos 1))) ∷ (Rel relation.Le (Number (pos 1)) (Var 0 sort.Int)) ∷ []); locals = ((name_s, (Of unary.Vi (Number (pos 0)))) ∷ (name_t, (Of unary.Vi (Number (pos 0)))) ∷ (name_i, (Of unary.Vi (Var 0 sort.Int))) ∷ []); items = ((Data (Number (pos 64)) (Global name_arr) (Of2 binary.Cons (Of unary.Vi (Number (pos 1))) (Of2 binary.Cons (Of unary.Vi (Number (pos 2))) (Of2 binary.Cons (Of unary.Vi (Number (pos 0))) (Of2 binary.Cons (Of unary.Vi (Number (pos 0))) Nil))))) ∷ []) }) (name_k2 ∷ []) ([]) (name_k1 ∷ [])) (s.WithBlock (s.Then 5 (s.Meet ((Number (pos 0)) ∷ []) ([])) s.NoBlock s.End) (s.WithBlock (s.Then 6 (s.If ([]) ((record { lines = ((line.Comb (((pos 1), 0) ∷ ((pos 1), 2) ∷ [])) ∷ []) }) ∷ (record { lines = ((line.Comb (((pos 1), 1) ∷ ((pos 1), 2) ∷ [])) ∷ []) }) ∷ []) ([]) ([])) (s.WithBlock (s.Then 7 (s.Set ([]) ((record { lines = ((line.Comb (((pos 1), 0) ∷ ((pos 1), 3) ∷ [])) ∷ []) }) ∷ (record { lines = ((line.Comb (((pos 1), 1) ∷ ((pos 1), 3) ∷ [])) ∷ []) }) ∷ (record { lines = ((line.Comb (((pos 1), 0) ∷ ((pos 1), 3) ∷ [])) ∷ []) }) ∷ (record { lines = ((line.Comb (((pos 1), 1) ∷ ((pos 1), 3) ∷ [])) ∷ []) }) ∷ [])) s.NoBlock (s.Then 8 (s.Set ([]) ((record { lines = ((line.Comb (((pos 1), 0) ∷ ((pos 1), 3) ∷ [])) ∷ []) }) ∷ (record { lines = ((line.Comb (((pos 1), 1) ∷ ((pos 1), 3) ∷ [])) ∷ []) }) ∷ (record { lines = ((line.Comb (((pos 1), 0) ∷ ((pos 1), 3) ∷ [])) ∷ []) }) ∷ (record { lines = ((line.Comb (((pos 1), 1) ∷ ((pos 1), 3) ∷ [])) ∷ []) }) ∷ [])) s.NoBlock (s.Then 9 (s.Fall ((Of2 binary.Add (Named name_k1) (Number (pos 1))) ∷ []) ((record { lines = ((line.Comb (((pos 1), 0) ∷ ((pos 1), 3) ∷ [])) ∷ []) }) ∷ [])) s.NoBlock s.End))) (s.WithBlock (s.Then 10 (s.Call ([]) ([]) ([]) (name_z ∷ [])) s.NoBlock (s.Then 11 (s.Break ((Named name_k1) ∷ []) ([])) s.NoBlock s.End)) s.NoBlock)) s.End) s.NoBlock)) (s.Then 12 (s.Return ((Of2 binary.Cons (Of unary.Vi (Number (pos 1))) (Of2 binary.Cons (Of unary.Vi (Number (pos 2))) (Of2 binary.Cons (Of unary.Vi (Number (pos 0))) (Of2 binary.Cons (Of unary.Vi (Number (pos 0))) Nil)))) ∷ []) ([]) ([])) s.NoBlock s.End))))) ≡ (RefusedAt 10 13 1)
unfolding computing
random_21 = refl

random_22 : body_verdict (record { predicates = ([]); specs = ((record { is_void = false; name = name_main; params = ([]); vars = []; pre = (record { opened = []; facts = ([]); locals = []; items = ((Data (Number (pos 64)) (Global name_arr) (Of2 binary.Cons (Of unary.Vi (Number (pos 1))) (Of2 binary.Cons (Of unary.Vi (Number (pos 2))) (Of2 binary.Cons (Of unary.Vi (Number (pos 0))) (Of2 binary.Cons (Of unary.Vi (Number (pos 0))) Nil))))) ∷ []) }); post = (record { opened = (sort.List ∷ []); facts = ([]); locals = []; items = ((Data (Number (pos 64)) (Global name_arr) (Var 1 sort.List)) ∷ []) }) }) ∷ []) }) (record { is_void = false; name = name_main; params = ([]); vars = []; pre = (record { opened = []; facts = ([]); locals = []; items = ((Data (Number (pos 64)) (Global name_arr) (Of2 binary.Cons (Of unary.Vi (Number (pos 1))) (Of2 binary.Cons (Of unary.Vi (Number (pos 2))) (Of2 binary.Cons (Of unary.Vi (Number (pos 0))) (Of2 binary.Cons (Of unary.Vi (Number (pos 0))) Nil))))) ∷ []) }); post = (record { opened = (sort.List ∷ []); facts = ([]); locals = []; items = ((Data (Number (pos 64)) (Global name_arr) (Var 1 sort.List)) ∷ []) }) }) (record { temps = (name_s ∷ name_t ∷ name_i ∷ name_x1 ∷ name_d0 ∷ name_p1 ∷ name_q1 ∷ []); body = (c.Then (c.Set 0 (c.Const 0)) (c.Then (c.Set 1 (c.Const 0)) (c.Then (c.Set 2 (c.Const 0)) (c.Then (c.Loop (c.Then (c.If (c.Nonzero kind.Signed (c.Binary two.Lt kind.Signed (c.Temp 2) (c.Const 1))) (c.Then (c.Set 4 (c.Binary two.Add kind.Signed (c.Temp 2) (c.Const 1))) (c.Then (c.Set 2 (c.Binary two.Add kind.Signed (c.Temp 2) (c.Const 1))) c.End)) (c.Then c.Break c.End)) c.End)) (c.Then (c.Return (Some (c.Temp 0))) c.End))))) }) (s.Then 1 (s.Set ([]) ([])) s.NoBlock (s.Then 2 (s.Set ([]) ([])) s.NoBlock (s.Then 3 (s.Set ([]) ([])) s.NoBlock (s.Then 4 (s.While (record { opened = (sort.Int ∷ []); facts = ((Rel relation.Le (Number (pos 0)) (Var 0 sort.Int)) ∷ (Rel relation.Le (Var 0 sort.Int) (Number (pos 1))) ∷ []); locals = ((name_s, (Of unary.Vi (Number (pos 0)))) ∷ (name_t, (Of unary.Vi (Number (pos 0)))) ∷ (name_i, (Of unary.Vi (Var 0 sort.Int))) ∷ []); items = ((Data (Number (pos 64)) (Global name_arr) (Of2 binary.Cons (Of unary.Vi (Number (pos 1))) (Of2 binary.Cons (Of unary.Vi (Number (pos 2))) (Of2 binary.Cons (Of unary.Vi (Number (pos 0))) (Of2 binary.Cons (Of unary.Vi (Number (pos 0))) Nil))))) ∷ []) }) (record { opened = (sort.Int ∷ []); facts = ((Rel relation.Le (Number (pos 0)) (Var 0 sort.Int)) ∷ (Rel relation.Le (Var 0 sort.Int) (Number (pos 1))) ∷ (Rel relation.Le (Number (pos 1)) (Var 0 sort.Int)) ∷ []); locals = ((name_s, (Of unary.Vi (Number (pos 0)))) ∷ (name_t, (Of unary.Vi (Number (pos 0)))) ∷ (name_i, (Of unary.Vi (Var 0 sort.Int))) ∷ []); items = ((Data (Number (pos 64)) (Global name_arr) (Of2 binary.Cons (Of unary.Vi (Number (pos 1))) (Of2 binary.Cons (Of unary.Vi (Number (pos 2))) (Of2 binary.Cons (Of unary.Vi (Number (pos 0))) (Of2 binary.Cons (Of unary.Vi (Number (pos 0))) Nil))))) ∷ []) }) (name_k2 ∷ []) ([]) (name_k1 ∷ [])) (s.WithBlock (s.Then 5 (s.Meet ((Number (pos 0)) ∷ []) ([])) s.NoBlock s.End) (s.WithBlock (s.Then 6 (s.If ([]) ((record { lines = ((line.Comb (((pos 1), 0) ∷ ((pos 1), 2) ∷ [])) ∷ []) }) ∷ (record { lines = ((line.Comb (((pos 1), 1) ∷ ((pos 1), 2) ∷ [])) ∷ []) }) ∷ []) ([]) ([])) (s.WithBlock (s.Then 7 (s.Set ([]) ((record { lines = ((line.Comb (((pos 1), 0) ∷ ((pos 1), 3) ∷ [])) ∷ []) }) ∷ (record { lines = ((line.Comb (((pos 1), 1) ∷ ((pos 1), 3) ∷ [])) ∷ []) }) ∷ (record { lines = ((line.Comb (((pos 1), 0) ∷ ((pos 1), 3) ∷ [])) ∷ []) }) ∷ (record { lines = ((line.Comb (((pos 1), 1) ∷ ((pos 1), 3) ∷ [])) ∷ []) }) ∷ [])) s.NoBlock (s.Then 8 (s.Set ([]) ((record { lines = ((line.Comb (((pos 1), 0) ∷ ((pos 1), 3) ∷ [])) ∷ []) }) ∷ (record { lines = ((line.Comb (((pos 1), 1) ∷ ((pos 1), 3) ∷ [])) ∷ []) }) ∷ (record { lines = ((line.Comb (((pos 1), 0) ∷ ((pos 1), 3) ∷ [])) ∷ []) }) ∷ (record { lines = ((line.Comb (((pos 1), 1) ∷ ((pos 1), 3) ∷ [])) ∷ []) }) ∷ [])) s.NoBlock (s.Then 9 (s.Forget (forgotten.Local name_s)) s.NoBlock (s.Then 10 (s.Fall ((Of2 binary.Add (Named name_k1) (Number (pos 1))) ∷ []) ((record { lines = ((line.Comb (((pos 1), 0) ∷ ((pos 1), 3) ∷ [])) ∷ []) }) ∷ [])) s.NoBlock s.End)))) (s.WithBlock (s.Then 11 (s.Break ((Named name_k1) ∷ []) ([])) s.NoBlock s.End) s.NoBlock)) s.End) s.NoBlock)) (s.Then 12 (s.Return ((Of2 binary.Cons (Of unary.Vi (Number (pos 1))) (Of2 binary.Cons (Of unary.Vi (Number (pos 2))) (Of2 binary.Cons (Of unary.Vi (Number (pos 0))) (Of2 binary.Cons (Of unary.Vi (Number (pos 0))) Nil)))) ∷ []) ([]) ([])) s.NoBlock s.End))))) ≡ (RefusedAt 10 10 4)
unfolding computing
random_22 = refl

random_23 : body_verdict (record { predicates = ([]); specs = ((record { is_void = false; name = name_main; params = ([]); vars = []; pre = (record { opened = []; facts = ([]); locals = []; items = ((Data (Number (pos 64)) (Global name_arr) (Of2 binary.Cons (Of unary.Vi (Number (pos 1))) (Of2 binary.Cons (Of unary.Vi (Number (pos 2))) (Of2 binary.Cons (Of unary.Vi (Number (pos 0))) (Of2 binary.Cons (Of unary.Vi (Number (pos 0))) Nil))))) ∷ []) }); post = (record { opened = (sort.List ∷ []); facts = ([]); locals = []; items = ((Data (Number (pos 64)) (Global name_arr) (Var 1 sort.List)) ∷ []) }) }) ∷ []) }) (record { is_void = false; name = name_main; params = ([]); vars = []; pre = (record { opened = []; facts = ([]); locals = []; items = ((Data (Number (pos 64)) (Global name_arr) (Of2 binary.Cons (Of unary.Vi (Number (pos 1))) (Of2 binary.Cons (Of unary.Vi (Number (pos 2))) (Of2 binary.Cons (Of unary.Vi (Number (pos 0))) (Of2 binary.Cons (Of unary.Vi (Number (pos 0))) Nil))))) ∷ []) }); post = (record { opened = (sort.List ∷ []); facts = ([]); locals = []; items = ((Data (Number (pos 64)) (Global name_arr) (Var 1 sort.List)) ∷ []) }) }) (record { temps = (name_s ∷ name_t ∷ name_i ∷ name_x1 ∷ name_d0 ∷ name_p1 ∷ name_q1 ∷ []); body = (c.Then (c.Set 0 (c.Const 0)) (c.Then (c.Set 1 (c.Const 0)) (c.Then (c.Set 2 (c.Const 0)) (c.Then (c.Loop (c.Then (c.If (c.Nonzero kind.Signed (c.Binary two.Lt kind.Signed (c.Temp 2) (c.Const 1))) (c.Then (c.Set 4 (c.Binary two.Add kind.Signed (c.Temp 2) (c.Const 1))) (c.Then (c.Set 2 (c.Binary two.Add kind.Signed (c.Temp 2) (c.Const 1))) c.End)) (c.Then c.Break c.End)) c.End)) (c.Then (c.Return (Some (c.Temp 0))) c.End))))) }) (s.Then 1 (s.Set ([]) ([])) s.NoBlock (s.Then 2 (s.Set ([]) ([])) s.NoBlock (s.Then 3 (s.Set ([]) ([])) s.NoBlock (s.Then 4 (s.While (record { opened = (sort.Int ∷ []); facts = ((Rel relation.Le (Number (pos 0)) (Var 0 sort.Int)) ∷ (Rel relation.Le (Var 0 sort.Int) (Number (pos 1))) ∷ []); locals = ((name_s, (Of unary.Vi (Number (pos 0)))) ∷ (name_t, (Of unary.Vi (Number (pos 0)))) ∷ (name_i, (Of unary.Vi (Var 0 sort.Int))) ∷ []); items = ((Data (Number (pos 64)) (Global name_arr) (Of2 binary.Cons (Of unary.Vi (Number (pos 1))) (Of2 binary.Cons (Of unary.Vi (Number (pos 2))) (Of2 binary.Cons (Of unary.Vi (Number (pos 0))) (Of2 binary.Cons (Of unary.Vi (Number (pos 0))) Nil))))) ∷ []) }) (record { opened = (sort.Int ∷ []); facts = ((Rel relation.Le (Number (pos 0)) (Var 0 sort.Int)) ∷ (Rel relation.Le (Var 0 sort.Int) (Number (pos 1))) ∷ (Rel relation.Le (Number (pos 1)) (Var 0 sort.Int)) ∷ []); locals = ((name_s, (Of unary.Vi (Number (pos 0)))) ∷ (name_t, (Of unary.Vi (Number (pos 0)))) ∷ (name_i, (Of unary.Vi (Var 0 sort.Int))) ∷ []); items = ((Data (Number (pos 64)) (Global name_arr) (Of2 binary.Cons (Of unary.Vi (Number (pos 1))) (Of2 binary.Cons (Of unary.Vi (Number (pos 2))) (Of2 binary.Cons (Of unary.Vi (Number (pos 0))) (Of2 binary.Cons (Of unary.Vi (Number (pos 0))) Nil))))) ∷ []) }) (name_k2 ∷ []) ([]) (name_k1 ∷ [])) (s.WithBlock s.End (s.WithBlock (s.Then 5 (s.If ([]) ((record { lines = ((line.Comb (((pos 1), 0) ∷ ((pos 1), 2) ∷ [])) ∷ []) }) ∷ (record { lines = ((line.Comb (((pos 1), 1) ∷ ((pos 1), 2) ∷ [])) ∷ []) }) ∷ []) ([]) ([])) (s.WithBlock (s.Then 6 (s.Set ([]) ((record { lines = ((line.Comb (((pos 1), 0) ∷ ((pos 1), 3) ∷ [])) ∷ []) }) ∷ (record { lines = ((line.Comb (((pos 1), 1) ∷ ((pos 1), 3) ∷ [])) ∷ []) }) ∷ (record { lines = ((line.Comb (((pos 1), 0) ∷ ((pos 1), 3) ∷ [])) ∷ []) }) ∷ (record { lines = ((line.Comb (((pos 1), 1) ∷ ((pos 1), 3) ∷ [])) ∷ []) }) ∷ [])) s.NoBlock (s.Then 7 (s.Set ([]) ((record { lines = ((line.Comb (((pos 1), 0) ∷ ((pos 1), 3) ∷ [])) ∷ []) }) ∷ (record { lines = ((line.Comb (((pos 1), 1) ∷ ((pos 1), 3) ∷ [])) ∷ []) }) ∷ (record { lines = ((line.Comb (((pos 1), 0) ∷ ((pos 1), 3) ∷ [])) ∷ []) }) ∷ (record { lines = ((line.Comb (((pos 1), 1) ∷ ((pos 1), 3) ∷ [])) ∷ []) }) ∷ [])) s.NoBlock (s.Then 8 (s.Fall ((Of2 binary.Add (Named name_k1) (Number (pos 1))) ∷ []) ((record { lines = ((line.Comb (((pos 1), 0) ∷ ((pos 1), 3) ∷ [])) ∷ []) }) ∷ [])) s.NoBlock s.End))) (s.WithBlock (s.Then 9 (s.Break ((Named name_k1) ∷ []) ([])) s.NoBlock s.End) s.NoBlock)) s.End) s.NoBlock)) (s.Then 10 (s.Return ((Of2 binary.Cons (Of unary.Vi (Number (pos 1))) (Of2 binary.Cons (Of unary.Vi (Number (pos 2))) (Of2 binary.Cons (Of unary.Vi (Number (pos 0))) (Of2 binary.Cons (Of unary.Vi (Number (pos 0))) Nil)))) ∷ []) ([]) ([])) s.NoBlock s.End))))) ≡ (RefusedAt 5 0 10)
unfolding computing
random_23 = refl

random_24 : body_verdict (record { predicates = ([]); specs = ((record { is_void = false; name = name_main; params = ([]); vars = []; pre = (record { opened = []; facts = ([]); locals = []; items = ((Data (Number (pos 64)) (Global name_arr) (Of2 binary.Cons (Of unary.Vi (Number (pos 1))) (Of2 binary.Cons (Of unary.Vi (Number (pos 2))) (Of2 binary.Cons (Of unary.Vi (Number (pos 0))) (Of2 binary.Cons (Of unary.Vi (Number (pos 0))) Nil))))) ∷ []) }); post = (record { opened = (sort.List ∷ []); facts = ([]); locals = []; items = ((Data (Number (pos 64)) (Global name_arr) (Var 1 sort.List)) ∷ []) }) }) ∷ []) }) (record { is_void = false; name = name_main; params = ([]); vars = []; pre = (record { opened = []; facts = ([]); locals = []; items = ((Data (Number (pos 64)) (Global name_arr) (Of2 binary.Cons (Of unary.Vi (Number (pos 1))) (Of2 binary.Cons (Of unary.Vi (Number (pos 2))) (Of2 binary.Cons (Of unary.Vi (Number (pos 0))) (Of2 binary.Cons (Of unary.Vi (Number (pos 0))) Nil))))) ∷ []) }); post = (record { opened = (sort.List ∷ []); facts = ([]); locals = []; items = ((Data (Number (pos 64)) (Global name_arr) (Var 1 sort.List)) ∷ []) }) }) (record { temps = (name_s ∷ name_t ∷ name_i ∷ name_x1 ∷ name_d0 ∷ name_p1 ∷ name_q1 ∷ []); body = (c.Then (c.Set 0 (c.Const 0)) (c.Then (c.Set 1 (c.Const 0)) (c.Then (c.Set 2 (c.Const 0)) (c.Then (c.Loop (c.Then (c.If (c.Nonzero kind.Signed (c.Binary two.Lt kind.Signed (c.Temp 2) (c.Const 1))) (c.Then (c.Set 4 (c.Binary two.Add kind.Signed (c.Temp 2) (c.Const 1))) (c.Then (c.Set 2 (c.Binary two.Add kind.Signed (c.Temp 2) (c.Const 1))) c.End)) (c.Then c.Break c.End)) c.End)) (c.Then (c.Return (Some (c.Temp 0))) c.End))))) }) (s.Then 1 (s.Set ([]) ([])) s.NoBlock (s.Then 2 (s.Set ([]) ([])) s.NoBlock (s.Then 3 (s.Set ([]) ([])) s.NoBlock (s.Then 4 (s.While (record { opened = (sort.Int ∷ []); facts = ((Rel relation.Le (Number (pos 0)) (Var 0 sort.Int)) ∷ (Rel relation.Le (Var 0 sort.Int) (Number (pos 1))) ∷ []); locals = ((name_s, (Of unary.Vi (Number (pos 0)))) ∷ (name_t, (Of unary.Vi (Number (pos 0)))) ∷ (name_i, (Of unary.Vi (Var 0 sort.Int))) ∷ []); items = ((Data (Number (pos 64)) (Global name_arr) (Of2 binary.Cons (Of unary.Vi (Number (pos 1))) (Of2 binary.Cons (Of unary.Vi (Number (pos 2))) (Of2 binary.Cons (Of unary.Vi (Number (pos 0))) (Of2 binary.Cons (Of unary.Vi (Number (pos 0))) Nil))))) ∷ []) }) (record { opened = (sort.Int ∷ []); facts = ((Rel relation.Le (Number (pos 0)) (Var 0 sort.Int)) ∷ (Rel relation.Le (Var 0 sort.Int) (Number (pos 1))) ∷ (Rel relation.Le (Number (pos 1)) (Var 0 sort.Int)) ∷ []); locals = ((name_s, (Of unary.Vi (Number (pos 0)))) ∷ (name_t, (Of unary.Vi (Number (pos 0)))) ∷ (name_i, (Of unary.Vi (Var 0 sort.Int))) ∷ []); items = ((Data (Number (pos 64)) (Global name_arr) (Of2 binary.Cons (Of unary.Vi (Number (pos 1))) (Of2 binary.Cons (Of unary.Vi (Number (pos 2))) (Of2 binary.Cons (Of unary.Vi (Number (pos 0))) (Of2 binary.Cons (Of unary.Vi (Number (pos 0))) Nil))))) ∷ []) }) (name_k2 ∷ []) ([]) (name_k1 ∷ [])) (s.WithBlock (s.Then 5 (s.Meet ((Number (pos 0)) ∷ []) ([])) s.NoBlock s.End) (s.WithBlock (s.Then 6 (s.If ([]) ((record { lines = ((line.Comb (((pos 1), 0) ∷ ((pos 1), 2) ∷ [])) ∷ []) }) ∷ (record { lines = ((line.Comb (((pos 1), 1) ∷ ((pos 1), 2) ∷ [])) ∷ []) }) ∷ []) ([]) ([])) (s.WithBlock (s.Then 7 (s.Set ([]) ((record { lines = ((line.Comb (((pos 1), 0) ∷ ((pos 1), 3) ∷ [])) ∷ []) }) ∷ (record { lines = ((line.Comb (((pos 2), 1) ∷ ((pos 1), 3) ∷ [])) ∷ []) }) ∷ (record { lines = ((line.Comb (((pos 1), 0) ∷ ((pos 1), 3) ∷ [])) ∷ []) }) ∷ (record { lines = ((line.Comb (((pos 1), 1) ∷ ((pos 1), 3) ∷ [])) ∷ []) }) ∷ [])) s.NoBlock (s.Then 8 (s.Set ([]) ((record { lines = ((line.Comb (((pos 1), 0) ∷ ((pos 1), 3) ∷ [])) ∷ []) }) ∷ (record { lines = ((line.Comb (((pos 1), 1) ∷ ((pos 1), 3) ∷ [])) ∷ []) }) ∷ (record { lines = ((line.Comb (((pos 1), 0) ∷ ((pos 1), 3) ∷ [])) ∷ []) }) ∷ (record { lines = ((line.Comb (((pos 1), 1) ∷ ((pos 1), 3) ∷ [])) ∷ []) }) ∷ [])) s.NoBlock (s.Then 9 (s.Fall ((Of2 binary.Add (Named name_k1) (Number (pos 1))) ∷ []) ((record { lines = ((line.Comb (((pos 1), 0) ∷ ((pos 1), 3) ∷ [])) ∷ []) }) ∷ [])) s.NoBlock s.End))) (s.WithBlock (s.Then 10 (s.Break ((Named name_k1) ∷ []) ([])) s.NoBlock s.End) s.NoBlock)) s.End) s.NoBlock)) (s.Then 11 (s.Return ((Of2 binary.Cons (Of unary.Vi (Number (pos 1))) (Of2 binary.Cons (Of unary.Vi (Number (pos 2))) (Of2 binary.Cons (Of unary.Vi (Number (pos 0))) (Of2 binary.Cons (Of unary.Vi (Number (pos 0))) Nil)))) ∷ []) ([]) ([])) s.NoBlock s.End))))) ≡ (RefusedAt 7 2 3)
unfolding computing
random_24 = refl

random_25 : body_verdict (record { predicates = ([]); specs = ((record { is_void = false; name = name_main; params = ([]); vars = []; pre = (record { opened = []; facts = ([]); locals = []; items = ((Data (Number (pos 64)) (Global name_arr) (Of2 binary.Cons (Of unary.Vi (Number (pos 1))) (Of2 binary.Cons (Of unary.Vi (Number (pos 2))) (Of2 binary.Cons (Of unary.Vi (Number (pos 0))) (Of2 binary.Cons (Of unary.Vi (Number (pos 0))) Nil))))) ∷ []) }); post = (record { opened = (sort.List ∷ []); facts = ([]); locals = []; items = ((Data (Number (pos 64)) (Global name_arr) (Var 1 sort.List)) ∷ []) }) }) ∷ []) }) (record { is_void = false; name = name_main; params = ([]); vars = []; pre = (record { opened = []; facts = ([]); locals = []; items = ((Data (Number (pos 64)) (Global name_arr) (Of2 binary.Cons (Of unary.Vi (Number (pos 1))) (Of2 binary.Cons (Of unary.Vi (Number (pos 2))) (Of2 binary.Cons (Of unary.Vi (Number (pos 0))) (Of2 binary.Cons (Of unary.Vi (Number (pos 0))) Nil))))) ∷ []) }); post = (record { opened = (sort.List ∷ []); facts = ([]); locals = []; items = ((Data (Number (pos 64)) (Global name_arr) (Var 1 sort.List)) ∷ []) }) }) (record { temps = (name_s ∷ name_t ∷ name_i ∷ name_x1 ∷ name_d0 ∷ name_p1 ∷ name_q1 ∷ []); body = (c.Then (c.Set 0 (c.Const 0)) (c.Then (c.Set 1 (c.Const 0)) (c.Then (c.Set 2 (c.Const 0)) (c.Then (c.Loop (c.Then (c.If (c.Nonzero kind.Signed (c.Binary two.Lt kind.Signed (c.Temp 2) (c.Const 1))) (c.Then (c.Set 4 (c.Binary two.Add kind.Signed (c.Temp 2) (c.Const 1))) (c.Then (c.Set 2 (c.Binary two.Add kind.Signed (c.Temp 2) (c.Const 1))) c.End)) (c.Then c.Break c.End)) c.End)) (c.Then (c.Return (Some (c.Temp 0))) c.End))))) }) (s.Then 1 (s.Set ([]) ([])) s.NoBlock (s.Then 2 (s.Set ([]) ([])) s.NoBlock (s.Then 3 (s.Set ([]) ([])) s.NoBlock (s.Then 4 (s.While (record { opened = (sort.Int ∷ []); facts = ((Rel relation.Le (Number (pos 0)) (Var 0 sort.Int)) ∷ (Rel relation.Le (Var 0 sort.Int) (Number (pos 1))) ∷ []); locals = ((name_s, (Of unary.Vi (Number (pos 0)))) ∷ (name_t, (Of unary.Vi (Number (pos 0)))) ∷ (name_i, (Of unary.Vi (Var 0 sort.Int))) ∷ []); items = ((Data (Number (pos 64)) (Global name_arr) (Of2 binary.Cons (Of unary.Vi (Number (pos 1))) (Of2 binary.Cons (Of unary.Vi (Number (pos 2))) (Of2 binary.Cons (Of unary.Vi (Number (pos 0))) (Of2 binary.Cons (Of unary.Vi (Number (pos 0))) Nil))))) ∷ []) }) (record { opened = (sort.Int ∷ []); facts = ((Rel relation.Le (Number (pos 0)) (Var 0 sort.Int)) ∷ (Rel relation.Le (Var 0 sort.Int) (Number (pos 1))) ∷ (Rel relation.Le (Number (pos 1)) (Var 0 sort.Int)) ∷ []); locals = ((name_s, (Of unary.Vi (Number (pos 0)))) ∷ (name_t, (Of unary.Vi (Number (pos 0)))) ∷ (name_i, (Of unary.Vi (Var 0 sort.Int))) ∷ []); items = ((Data (Number (pos 64)) (Global name_arr) (Of2 binary.Cons (Of unary.Vi (Number (pos 1))) (Of2 binary.Cons (Of unary.Vi (Number (pos 2))) (Of2 binary.Cons (Of unary.Vi (Number (pos 0))) (Of2 binary.Cons (Of unary.Vi (Number (pos 0))) Nil))))) ∷ []) }) (name_k2 ∷ []) ([]) (name_k1 ∷ [])) (s.WithBlock (s.Then 5 (s.Meet ((Number (pos 0)) ∷ []) ([])) s.NoBlock s.End) (s.WithBlock (s.Then 6 (s.If ([]) ((record { lines = ((line.Comb (((pos 1), 0) ∷ ((pos 1), 2) ∷ [])) ∷ []) }) ∷ (record { lines = ((line.Comb (((pos 1), 1) ∷ ((pos 1), 2) ∷ [])) ∷ []) }) ∷ []) ([]) ([])) (s.WithBlock (s.Then 7 (s.Set ([]) ((record { lines = ((line.Comb (((pos 1), 63) ∷ ((pos 1), 3) ∷ [])) ∷ []) }) ∷ (record { lines = ((line.Comb (((pos 1), 1) ∷ ((pos 1), 3) ∷ [])) ∷ []) }) ∷ (record { lines = ((line.Comb (((pos 1), 0) ∷ ((pos 1), 3) ∷ [])) ∷ []) }) ∷ (record { lines = ((line.Comb (((pos 1), 1) ∷ ((pos 1), 3) ∷ [])) ∷ []) }) ∷ [])) s.NoBlock (s.Then 8 (s.Set ([]) ((record { lines = ((line.Comb (((pos 1), 0) ∷ ((pos 1), 3) ∷ [])) ∷ []) }) ∷ (record { lines = ((line.Comb (((pos 1), 1) ∷ ((pos 1), 3) ∷ [])) ∷ []) }) ∷ (record { lines = ((line.Comb (((pos 1), 0) ∷ ((pos 1), 3) ∷ [])) ∷ []) }) ∷ (record { lines = ((line.Comb (((pos 1), 1) ∷ ((pos 1), 3) ∷ [])) ∷ []) }) ∷ [])) s.NoBlock (s.Then 9 (s.Fall ((Of2 binary.Add (Named name_k1) (Number (pos 1))) ∷ []) ((record { lines = ((line.Comb (((pos 1), 0) ∷ ((pos 1), 3) ∷ [])) ∷ []) }) ∷ [])) s.NoBlock s.End))) (s.WithBlock (s.Then 10 (s.Break ((Named name_k1) ∷ (Number (pos 0)) ∷ []) ([])) s.NoBlock s.End) s.NoBlock)) s.End) s.NoBlock)) (s.Then 11 (s.Return ((Of2 binary.Cons (Of unary.Vi (Number (pos 1))) (Of2 binary.Cons (Of unary.Vi (Number (pos 2))) (Of2 binary.Cons (Of unary.Vi (Number (pos 0))) (Of2 binary.Cons (Of unary.Vi (Number (pos 0))) Nil)))) ∷ []) ([]) ([])) s.NoBlock s.End))))) ≡ (RefusedAt 7 2 3)
unfolding computing
random_25 = refl

random_26 : body_verdict (record { predicates = ([]); specs = ((record { is_void = false; name = name_main; params = ([]); vars = []; pre = (record { opened = []; facts = ([]); locals = []; items = ((Data (Number (pos 64)) (Global name_arr) (Of2 binary.Cons (Of unary.Vi (Number (pos 1))) (Of2 binary.Cons (Of unary.Vi (Number (pos 2))) (Of2 binary.Cons (Of unary.Vi (Number (pos 0))) (Of2 binary.Cons (Of unary.Vi (Number (pos 0))) Nil))))) ∷ []) }); post = (record { opened = (sort.List ∷ []); facts = ([]); locals = []; items = ((Data (Number (pos 64)) (Global name_arr) (Var 1 sort.List)) ∷ []) }) }) ∷ []) }) (record { is_void = false; name = name_main; params = ([]); vars = []; pre = (record { opened = []; facts = ([]); locals = []; items = ((Data (Number (pos 64)) (Global name_arr) (Of2 binary.Cons (Of unary.Vi (Number (pos 1))) (Of2 binary.Cons (Of unary.Vi (Number (pos 2))) (Of2 binary.Cons (Of unary.Vi (Number (pos 0))) (Of2 binary.Cons (Of unary.Vi (Number (pos 0))) Nil))))) ∷ []) }); post = (record { opened = (sort.List ∷ []); facts = ([]); locals = []; items = ((Data (Number (pos 64)) (Global name_arr) (Var 1 sort.List)) ∷ []) }) }) (record { temps = (name_s ∷ name_t ∷ name_i ∷ name_x1 ∷ name_d0 ∷ name_p1 ∷ name_q1 ∷ []); body = (c.Then (c.Set 0 (c.Const 0)) (c.Then (c.Set 1 (c.Const 0)) (c.Then (c.Set 2 (c.Const 0)) (c.Then (c.Loop (c.Then (c.If (c.Nonzero kind.Signed (c.Binary two.Lt kind.Signed (c.Temp 2) (c.Const 1))) (c.Then (c.Set 4 (c.Binary two.Add kind.Signed (c.Temp 2) (c.Const 1))) (c.Then (c.Set 2 (c.Binary two.Add kind.Signed (c.Temp 2) (c.Const 1))) c.End)) (c.Then c.Break c.End)) c.End)) (c.Then (c.Return (Some (c.Temp 0))) c.End))))) }) (s.Then 1 (s.Set ([]) ([])) s.NoBlock (s.Then 2 (s.Set ([]) ([])) s.NoBlock (s.Then 3 (s.Set ([]) ([])) s.NoBlock (s.Then 4 (s.While (record { opened = (sort.Int ∷ []); facts = ((Rel relation.Le (Number (pos 0)) (Var 0 sort.Int)) ∷ (Rel relation.Le (Var 0 sort.Int) (Number (pos 1))) ∷ []); locals = ((name_s, (Of unary.Vi (Number (pos 0)))) ∷ (name_t, (Of unary.Vi (Number (pos 0)))) ∷ (name_i, (Of unary.Vi (Var 0 sort.Int))) ∷ []); items = ((Data (Number (pos 64)) (Global name_arr) (Of2 binary.Cons (Of unary.Vi (Number (pos 1))) (Of2 binary.Cons (Of unary.Vi (Number (pos 2))) (Of2 binary.Cons (Of unary.Vi (Number (pos 0))) (Of2 binary.Cons (Of unary.Vi (Number (pos 0))) Nil))))) ∷ []) }) (record { opened = (sort.Int ∷ []); facts = ((Rel relation.Le (Number (pos 0)) (Var 0 sort.Int)) ∷ (Rel relation.Le (Var 0 sort.Int) (Number (pos 1))) ∷ (Rel relation.Le (Number (pos 1)) (Var 0 sort.Int)) ∷ []); locals = ((name_s, (Of unary.Vi (Number (pos 0)))) ∷ (name_t, (Of unary.Vi (Number (pos 0)))) ∷ (name_i, (Of unary.Vi (Var 0 sort.Int))) ∷ []); items = ((Data (Number (pos 64)) (Global name_arr) (Of2 binary.Cons (Of unary.Vi (Number (pos 1))) (Of2 binary.Cons (Of unary.Vi (Number (pos 2))) (Of2 binary.Cons (Of unary.Vi (Number (pos 0))) (Of2 binary.Cons (Of unary.Vi (Number (pos 0))) Nil))))) ∷ []) }) (name_k2 ∷ []) ([]) (name_k1 ∷ [])) (s.WithBlock (s.Then 5 (s.Meet ((Number (pos 0)) ∷ []) ([])) s.NoBlock s.End) (s.WithBlock (s.Then 6 (s.If ([]) ((record { lines = ((line.Comb (((pos 1), 0) ∷ ((pos 1), 2) ∷ [])) ∷ []) }) ∷ (record { lines = ((line.Comb (((pos 1), 1) ∷ ((pos 1), 2) ∷ [])) ∷ []) }) ∷ []) ([]) ([])) (s.WithBlock (s.Then 7 (s.Set ([]) ((record { lines = ((line.Comb (((pos 1), 0) ∷ ((pos 1), 3) ∷ [])) ∷ []) }) ∷ (record { lines = ((line.Comb (((pos 1), 1) ∷ ((pos 1), 3) ∷ [])) ∷ []) }) ∷ (record { lines = ((line.Comb (((pos 1), 0) ∷ ((pos 1), 3) ∷ [])) ∷ []) }) ∷ (record { lines = ((line.Comb (((pos 1), 1) ∷ ((pos 1), 3) ∷ [])) ∷ []) }) ∷ [])) s.NoBlock (s.Then 8 (s.Fall ((Of2 binary.Add (Named name_k1) (Number (pos 1))) ∷ []) ((record { lines = ((line.Comb (((pos 1), 0) ∷ ((pos 1), 3) ∷ [])) ∷ []) }) ∷ [])) s.NoBlock s.End)) (s.WithBlock (s.Then 9 (s.Break ((Named name_k1) ∷ []) ([])) s.NoBlock s.End) s.NoBlock)) s.End) s.NoBlock)) (s.Then 10 (s.Return ((Of2 binary.Cons (Of unary.Vi (Number (pos 1))) (Of2 binary.Cons (Of unary.Vi (Number (pos 2))) (Of2 binary.Cons (Of unary.Vi (Number (pos 0))) (Of2 binary.Cons (Of unary.Vi (Number (pos 0))) Nil)))) ∷ []) ([]) ([])) s.NoBlock s.End))))) ≡ (RefusedAt 8 10 1)
unfolding computing
random_26 = refl

random_27 : body_verdict (record { predicates = ([]); specs = ((record { is_void = false; name = name_main; params = ([]); vars = []; pre = (record { opened = []; facts = ([]); locals = []; items = ((Data (Number (pos 64)) (Global name_arr) (Of2 binary.Cons (Of unary.Vi (Number (pos 1))) (Of2 binary.Cons (Of unary.Vi (Number (pos 2))) (Of2 binary.Cons (Of unary.Vi (Number (pos 0))) (Of2 binary.Cons (Of unary.Vi (Number (pos 0))) Nil))))) ∷ []) }); post = (record { opened = (sort.List ∷ []); facts = ([]); locals = []; items = ((Data (Number (pos 64)) (Global name_arr) (Var 1 sort.List)) ∷ []) }) }) ∷ []) }) (record { is_void = false; name = name_main; params = ([]); vars = []; pre = (record { opened = []; facts = ([]); locals = []; items = ((Data (Number (pos 64)) (Global name_arr) (Of2 binary.Cons (Of unary.Vi (Number (pos 1))) (Of2 binary.Cons (Of unary.Vi (Number (pos 2))) (Of2 binary.Cons (Of unary.Vi (Number (pos 0))) (Of2 binary.Cons (Of unary.Vi (Number (pos 0))) Nil))))) ∷ []) }); post = (record { opened = (sort.List ∷ []); facts = ([]); locals = []; items = ((Data (Number (pos 64)) (Global name_arr) (Var 1 sort.List)) ∷ []) }) }) (record { temps = (name_s ∷ name_t ∷ name_i ∷ name_x1 ∷ name_d0 ∷ name_p1 ∷ name_q1 ∷ []); body = (c.Then (c.Set 0 (c.Const 0)) (c.Then (c.Set 1 (c.Const 0)) (c.Then (c.Set 2 (c.Const 0)) (c.Then (c.Loop (c.Then (c.If (c.Nonzero kind.Signed (c.Binary two.Lt kind.Signed (c.Temp 2) (c.Const 1))) (c.Then (c.Set 4 (c.Binary two.Add kind.Signed (c.Temp 2) (c.Const 1))) (c.Then (c.Set 2 (c.Binary two.Add kind.Signed (c.Temp 2) (c.Const 1))) c.End)) (c.Then c.Break c.End)) c.End)) (c.Then (c.Return (Some (c.Temp 0))) c.End))))) }) (s.Then 1 (s.Set ([]) ([])) s.NoBlock (s.Then 2 (s.Set ([]) ([])) s.NoBlock (s.Then 3 (s.Set ([]) ([])) s.NoBlock (s.Then 4 (s.While (record { opened = (sort.Int ∷ []); facts = ((Rel relation.Le (Number (pos 0)) (Var 0 sort.Int)) ∷ (Rel relation.Le (Var 0 sort.Int) (Number (pos 1))) ∷ []); locals = ((name_s, (Of unary.Vi (Number (pos 0)))) ∷ (name_t, (Of unary.Vi (Number (pos 0)))) ∷ (name_i, (Of unary.Vi (Var 0 sort.Int))) ∷ []); items = ((Data (Number (pos 64)) (Global name_arr) (Of2 binary.Cons (Of unary.Vi (Number (pos 1))) (Of2 binary.Cons (Of unary.Vi (Number (pos 2))) (Of2 binary.Cons (Of unary.Vi (Number (pos 0))) (Of2 binary.Cons (Of unary.Vi (Number (pos 0))) Nil))))) ∷ []) }) (record { opened = (sort.Int ∷ []); facts = ((Rel relation.Le (Number (pos 0)) (Var 0 sort.Int)) ∷ (Rel relation.Le (Var 0 sort.Int) (Number (pos 1))) ∷ (Rel relation.Le (Number (pos 1)) (Var 0 sort.Int)) ∷ []); locals = ((name_s, (Of unary.Vi (Number (pos 0)))) ∷ (name_t, (Of unary.Vi (Number (pos 0)))) ∷ (name_i, (Of unary.Vi (Var 0 sort.Int))) ∷ []); items = ((Data (Number (pos 64)) (Global name_arr) (Of2 binary.Cons (Of unary.Vi (Number (pos 1))) (Of2 binary.Cons (Of unary.Vi (Number (pos 2))) (Of2 binary.Cons (Of unary.Vi (Number (pos 0))) (Of2 binary.Cons (Of unary.Vi (Number (pos 0))) Nil))))) ∷ []) }) (name_k2 ∷ []) ([]) (name_k1 ∷ [])) (s.WithBlock (s.Then 5 (s.Meet ((Number (pos 0)) ∷ []) ([])) s.NoBlock s.End) (s.WithBlock (s.Then 6 (s.If ([]) ((record { lines = ((line.Comb (((pos 1), 0) ∷ ((pos 1), 2) ∷ [])) ∷ []) }) ∷ (record { lines = ((line.Comb (((pos 1), 1) ∷ ((pos 1), 2) ∷ [])) ∷ []) }) ∷ []) ([]) ([])) (s.WithBlock (s.Then 7 (s.Set ([]) ((record { lines = ((line.Comb (((pos 1), 0) ∷ ((pos 1), 3) ∷ [])) ∷ []) }) ∷ (record { lines = ((line.Comb (((pos 1), 1) ∷ ((pos 1), 3) ∷ [])) ∷ []) }) ∷ (record { lines = ((line.Comb (((pos 1), 0) ∷ ((pos 1), 3) ∷ [])) ∷ []) }) ∷ (record { lines = ((line.Comb (((pos 1), 1) ∷ ((pos 1), 3) ∷ [])) ∷ []) }) ∷ [])) s.NoBlock (s.Then 8 (s.Set ([]) ((record { lines = ((line.Comb (((pos 1), 0) ∷ ((pos 1), 3) ∷ [])) ∷ []) }) ∷ (record { lines = ((line.Comb (((pos 1), 1) ∷ ((pos 1), 3) ∷ [])) ∷ []) }) ∷ (record { lines = ((line.Comb (((pos 1), 0) ∷ ((pos 1), 3) ∷ [])) ∷ []) }) ∷ (record { lines = ((line.Comb (((pos 1), 1) ∷ ((pos 1), 3) ∷ [])) ∷ []) }) ∷ [])) s.NoBlock (s.Then 9 (s.Cut 0 Nil Nil) s.NoBlock (s.Then 10 (s.Fall ((Of2 binary.Add (Named name_k1) (Number (pos 1))) ∷ []) ((record { lines = ((line.Comb (((pos 1), 0) ∷ ((pos 1), 3) ∷ [])) ∷ []) }) ∷ [])) s.NoBlock s.End)))) (s.WithBlock (s.Then 11 (s.Break ((Named name_k1) ∷ []) ([])) s.NoBlock s.End) s.NoBlock)) s.End) s.NoBlock)) (s.Then 12 (s.Return ((Of2 binary.Cons (Of unary.Vi (Number (pos 1))) (Of2 binary.Cons (Of unary.Vi (Number (pos 2))) (Of2 binary.Cons (Of unary.Vi (Number (pos 0))) (Of2 binary.Cons (Of unary.Vi (Number (pos 0))) Nil)))) ∷ []) ([]) ([])) s.NoBlock s.End))))) ≡ (RefusedAt 9 29 1)
unfolding computing
random_27 = refl

random_28 : body_verdict (record { predicates = ([]); specs = ((record { is_void = false; name = name_main; params = ([]); vars = []; pre = (record { opened = []; facts = ([]); locals = []; items = ((Data (Number (pos 64)) (Global name_arr) (Of2 binary.Cons (Of unary.Vi (Number (pos 1))) (Of2 binary.Cons (Of unary.Vi (Number (pos 2))) (Of2 binary.Cons (Of unary.Vi (Number (pos 0))) (Of2 binary.Cons (Of unary.Vi (Number (pos 0))) Nil))))) ∷ []) }); post = (record { opened = (sort.List ∷ []); facts = ([]); locals = []; items = ((Data (Number (pos 64)) (Global name_arr) (Var 1 sort.List)) ∷ []) }) }) ∷ []) }) (record { is_void = false; name = name_main; params = ([]); vars = []; pre = (record { opened = []; facts = ([]); locals = []; items = ((Data (Number (pos 64)) (Global name_arr) (Of2 binary.Cons (Of unary.Vi (Number (pos 1))) (Of2 binary.Cons (Of unary.Vi (Number (pos 2))) (Of2 binary.Cons (Of unary.Vi (Number (pos 0))) (Of2 binary.Cons (Of unary.Vi (Number (pos 0))) Nil))))) ∷ []) }); post = (record { opened = (sort.List ∷ []); facts = ([]); locals = []; items = ((Data (Number (pos 64)) (Global name_arr) (Var 1 sort.List)) ∷ []) }) }) (record { temps = (name_s ∷ name_t ∷ name_i ∷ name_x1 ∷ name_d0 ∷ name_p1 ∷ name_q1 ∷ []); body = (c.Then (c.Set 0 (c.Const 0)) (c.Then (c.Set 1 (c.Const 0)) (c.Then (c.Set 2 (c.Const 0)) (c.Then (c.Loop (c.Then (c.If (c.Nonzero kind.Signed (c.Binary two.Lt kind.Signed (c.Temp 2) (c.Const 1))) (c.Then (c.Set 4 (c.Binary two.Add kind.Signed (c.Temp 2) (c.Const 1))) (c.Then (c.Set 2 (c.Binary two.Add kind.Signed (c.Temp 2) (c.Const 1))) c.End)) (c.Then c.Break c.End)) c.End)) (c.Then (c.Return (Some (c.Temp 0))) c.End))))) }) (s.Then 1 (s.Set ([]) ([])) s.NoBlock (s.Then 2 (s.Set ([]) ([])) s.NoBlock (s.Then 3 (s.While (record { opened = (sort.Int ∷ []); facts = ((Rel relation.Le (Number (pos 0)) (Var 0 sort.Int)) ∷ (Rel relation.Le (Var 0 sort.Int) (Number (pos 1))) ∷ []); locals = ((name_s, (Of unary.Vi (Number (pos 0)))) ∷ (name_t, (Of unary.Vi (Number (pos 0)))) ∷ (name_i, (Of unary.Vi (Var 0 sort.Int))) ∷ []); items = ((Data (Number (pos 64)) (Global name_arr) (Of2 binary.Cons (Of unary.Vi (Number (pos 1))) (Of2 binary.Cons (Of unary.Vi (Number (pos 2))) (Of2 binary.Cons (Of unary.Vi (Number (pos 0))) (Of2 binary.Cons (Of unary.Vi (Number (pos 0))) Nil))))) ∷ []) }) (record { opened = (sort.Int ∷ []); facts = ((Rel relation.Le (Number (pos 0)) (Var 0 sort.Int)) ∷ (Rel relation.Le (Var 0 sort.Int) (Number (pos 1))) ∷ (Rel relation.Le (Number (pos 1)) (Var 0 sort.Int)) ∷ []); locals = ((name_s, (Of unary.Vi (Number (pos 0)))) ∷ (name_t, (Of unary.Vi (Number (pos 0)))) ∷ (name_i, (Of unary.Vi (Var 0 sort.Int))) ∷ []); items = ((Data (Number (pos 64)) (Global name_arr) (Of2 binary.Cons (Of unary.Vi (Number (pos 1))) (Of2 binary.Cons (Of unary.Vi (Number (pos 2))) (Of2 binary.Cons (Of unary.Vi (Number (pos 0))) (Of2 binary.Cons (Of unary.Vi (Number (pos 0))) Nil))))) ∷ []) }) (name_k2 ∷ []) ([]) (name_k1 ∷ [])) (s.WithBlock (s.Then 4 (s.Meet ((Number (pos 0)) ∷ []) ([])) s.NoBlock s.End) (s.WithBlock (s.Then 5 (s.If ([]) ((record { lines = ((line.Comb (((pos 1), 0) ∷ ((pos 1), 2) ∷ [])) ∷ []) }) ∷ (record { lines = ((line.Comb (((pos 1), 1) ∷ ((pos 1), 2) ∷ [])) ∷ []) }) ∷ []) ([]) ([])) (s.WithBlock (s.Then 6 (s.Set ([]) ((record { lines = ((line.Comb (((pos 1), 0) ∷ ((pos 1), 3) ∷ [])) ∷ []) }) ∷ (record { lines = ((line.Comb (((pos 1), 1) ∷ ((pos 1), 3) ∷ [])) ∷ []) }) ∷ (record { lines = ((line.Comb (((pos 1), 0) ∷ ((pos 1), 3) ∷ [])) ∷ []) }) ∷ (record { lines = ((line.Comb (((pos 1), 1) ∷ ((pos 1), 3) ∷ [])) ∷ []) }) ∷ [])) s.NoBlock (s.Then 7 (s.Set ([]) ((record { lines = ((line.Comb (((pos 1), 0) ∷ ((pos 1), 3) ∷ [])) ∷ []) }) ∷ (record { lines = ((line.Comb (((pos 1), 1) ∷ ((pos 1), 3) ∷ [])) ∷ []) }) ∷ (record { lines = ((line.Comb (((pos 1), 0) ∷ ((pos 1), 3) ∷ [])) ∷ []) }) ∷ (record { lines = ((line.Comb (((pos 1), 1) ∷ ((pos 1), 3) ∷ [])) ∷ []) }) ∷ [])) s.NoBlock (s.Then 8 (s.Fall ((Of2 binary.Add (Named name_k1) (Number (pos 1))) ∷ []) ((record { lines = ((line.Comb (((pos 1), 0) ∷ ((pos 1), 3) ∷ [])) ∷ []) }) ∷ [])) s.NoBlock s.End))) (s.WithBlock (s.Then 9 (s.Break ((Named name_k1) ∷ []) ([])) s.NoBlock s.End) s.NoBlock)) s.End) s.NoBlock)) (s.Then 10 (s.Return ((Of2 binary.Cons (Of unary.Vi (Number (pos 1))) (Of2 binary.Cons (Of unary.Vi (Number (pos 2))) (Of2 binary.Cons (Of unary.Vi (Number (pos 0))) (Of2 binary.Cons (Of unary.Vi (Number (pos 0))) Nil)))) ∷ []) ([]) ([])) s.NoBlock s.End)))) ≡ (RefusedAt 3 6 1)
unfolding computing
random_28 = refl

random_29 : body_verdict (record { predicates = ([]); specs = ((record { is_void = false; name = name_main; params = ([]); vars = []; pre = (record { opened = []; facts = ([]); locals = []; items = ((Data (Number (pos 64)) (Global name_arr) (Of2 binary.Cons (Of unary.Vi (Number (pos 1))) (Of2 binary.Cons (Of unary.Vi (Number (pos 2))) (Of2 binary.Cons (Of unary.Vi (Number (pos 0))) (Of2 binary.Cons (Of unary.Vi (Number (pos 0))) Nil))))) ∷ []) }); post = (record { opened = (sort.List ∷ []); facts = ([]); locals = []; items = ((Data (Number (pos 64)) (Global name_arr) (Var 1 sort.List)) ∷ []) }) }) ∷ []) }) (record { is_void = false; name = name_main; params = ([]); vars = []; pre = (record { opened = []; facts = ([]); locals = []; items = ((Data (Number (pos 64)) (Global name_arr) (Of2 binary.Cons (Of unary.Vi (Number (pos 1))) (Of2 binary.Cons (Of unary.Vi (Number (pos 2))) (Of2 binary.Cons (Of unary.Vi (Number (pos 0))) (Of2 binary.Cons (Of unary.Vi (Number (pos 0))) Nil))))) ∷ []) }); post = (record { opened = (sort.List ∷ []); facts = ([]); locals = []; items = ((Data (Number (pos 64)) (Global name_arr) (Var 1 sort.List)) ∷ []) }) }) (record { temps = (name_s ∷ name_t ∷ name_i ∷ name_x1 ∷ name_d0 ∷ name_p1 ∷ name_q1 ∷ []); body = (c.Then (c.Set 0 (c.Const 0)) (c.Then (c.Set 1 (c.Const 0)) (c.Then (c.Set 2 (c.Const 0)) (c.Then (c.Loop (c.Then (c.If (c.Nonzero kind.Signed (c.Binary two.Lt kind.Signed (c.Temp 2) (c.Const 1))) (c.Then (c.Set 4 (c.Binary two.Add kind.Signed (c.Temp 2) (c.Const 1))) (c.Then (c.Set 2 (c.Binary two.Add kind.Signed (c.Temp 2) (c.Const 1))) c.End)) (c.Then c.Break c.End)) c.End)) (c.Then (c.Return (Some (c.Temp 0))) c.End))))) }) (s.Then 1 (s.Set ([]) ([])) s.NoBlock (s.Then 2 (s.Set ([]) ([])) s.NoBlock (s.Then 3 (s.Set ([]) ([])) s.NoBlock (s.Then 4 (s.Set ([]) ([])) s.NoBlock (s.Then 5 (s.While (record { opened = (sort.Int ∷ []); facts = ((Rel relation.Le (Number (pos 0)) (Var 0 sort.Int)) ∷ (Rel relation.Le (Var 0 sort.Int) (Number (pos 1))) ∷ []); locals = ((name_s, (Of unary.Vi (Number (pos 0)))) ∷ (name_t, (Of unary.Vi (Number (pos 0)))) ∷ (name_i, (Of unary.Vi (Var 0 sort.Int))) ∷ []); items = ((Data (Number (pos 64)) (Global name_arr) (Of2 binary.Cons (Of unary.Vi (Number (pos 1))) (Of2 binary.Cons (Of unary.Vi (Number (pos 2))) (Of2 binary.Cons (Of unary.Vi (Number (pos 0))) (Of2 binary.Cons (Of unary.Vi (Number (pos 0))) Nil))))) ∷ []) }) (record { opened = (sort.Int ∷ []); facts = ((Rel relation.Le (Number (pos 0)) (Var 0 sort.Int)) ∷ (Rel relation.Le (Var 0 sort.Int) (Number (pos 1))) ∷ (Rel relation.Le (Number (pos 1)) (Var 0 sort.Int)) ∷ []); locals = ((name_s, (Of unary.Vi (Number (pos 0)))) ∷ (name_t, (Of unary.Vi (Number (pos 0)))) ∷ (name_i, (Of unary.Vi (Var 0 sort.Int))) ∷ []); items = ((Data (Number (pos 64)) (Global name_arr) (Of2 binary.Cons (Of unary.Vi (Number (pos 1))) (Of2 binary.Cons (Of unary.Vi (Number (pos 2))) (Of2 binary.Cons (Of unary.Vi (Number (pos 0))) (Of2 binary.Cons (Of unary.Vi (Number (pos 0))) Nil))))) ∷ []) }) (name_k2 ∷ []) ([]) (name_k1 ∷ [])) (s.WithBlock (s.Then 6 (s.Meet ((Number (pos 0)) ∷ []) ([])) s.NoBlock s.End) (s.WithBlock (s.Then 7 (s.If ([]) ((record { lines = ((line.Comb (((pos 1), 0) ∷ ((pos 1), 2) ∷ [])) ∷ []) }) ∷ (record { lines = ((line.Comb (((pos 1), 1) ∷ ((pos 1), 2) ∷ [])) ∷ []) }) ∷ []) ([]) ([])) (s.WithBlock (s.Then 8 (s.Set ([]) ((record { lines = ((line.Comb (((pos 1), 0) ∷ ((pos 1), 3) ∷ [])) ∷ []) }) ∷ (record { lines = ((line.Comb (((pos 1), 1) ∷ ((pos 1), 3) ∷ [])) ∷ []) }) ∷ (record { lines = ((line.Comb (((pos 1), 0) ∷ ((pos 1), 3) ∷ [])) ∷ []) }) ∷ (record { lines = ((line.Comb (((pos 1), 1) ∷ ((pos 1), 3) ∷ [])) ∷ []) }) ∷ [])) s.NoBlock (s.Then 9 (s.Set ([]) ((record { lines = ((line.Comb (((pos 1), 0) ∷ ((pos 1), 3) ∷ [])) ∷ []) }) ∷ (record { lines = ((line.Comb (((pos 1), 1) ∷ ((pos 1), 3) ∷ [])) ∷ []) }) ∷ (record { lines = ((line.Comb (((pos 1), 0) ∷ ((pos 1), 3) ∷ [])) ∷ []) }) ∷ (record { lines = ((line.Comb (((pos 1), 1) ∷ ((pos 1), 3) ∷ [])) ∷ []) }) ∷ [])) s.NoBlock (s.Then 10 (s.Fall ((Of2 binary.Add (Named name_k1) (Number (pos 1))) ∷ []) ((record { lines = ((line.Comb (((pos 1), 0) ∷ ((pos 1), 3) ∷ [])) ∷ []) }) ∷ [])) s.NoBlock s.End))) (s.WithBlock (s.Then 11 (s.Break ((Named name_k1) ∷ []) ([])) s.NoBlock s.End) s.NoBlock)) s.End) s.NoBlock)) (s.Then 12 (s.Return ((Of2 binary.Cons (Of unary.Vi (Number (pos 1))) (Of2 binary.Cons (Of unary.Vi (Number (pos 2))) (Of2 binary.Cons (Of unary.Vi (Number (pos 0))) (Of2 binary.Cons (Of unary.Vi (Number (pos 0))) Nil)))) ∷ []) ([]) ([])) s.NoBlock s.End)))))) ≡ (RefusedAt 4 2 1)
unfolding computing
random_29 = refl

random_30 : body_verdict (record { predicates = ([]); specs = ((record { is_void = false; name = name_main; params = ([]); vars = []; pre = (record { opened = []; facts = ([]); locals = []; items = ((Data (Number (pos 64)) (Global name_arr) (Of2 binary.Cons (Of unary.Vi (Number (pos 1))) (Of2 binary.Cons (Of unary.Vi (Number (pos 2))) (Of2 binary.Cons (Of unary.Vi (Number (pos 0))) (Of2 binary.Cons (Of unary.Vi (Number (pos 0))) Nil))))) ∷ []) }); post = (record { opened = (sort.List ∷ []); facts = ([]); locals = []; items = ((Data (Number (pos 64)) (Global name_arr) (Var 1 sort.List)) ∷ []) }) }) ∷ []) }) (record { is_void = false; name = name_main; params = ([]); vars = []; pre = (record { opened = []; facts = ([]); locals = []; items = ((Data (Number (pos 64)) (Global name_arr) (Of2 binary.Cons (Of unary.Vi (Number (pos 1))) (Of2 binary.Cons (Of unary.Vi (Number (pos 2))) (Of2 binary.Cons (Of unary.Vi (Number (pos 0))) (Of2 binary.Cons (Of unary.Vi (Number (pos 0))) Nil))))) ∷ []) }); post = (record { opened = (sort.List ∷ []); facts = ([]); locals = []; items = ((Data (Number (pos 64)) (Global name_arr) (Var 1 sort.List)) ∷ []) }) }) (record { temps = (name_s ∷ name_t ∷ name_i ∷ name_x1 ∷ name_d0 ∷ name_p1 ∷ name_q1 ∷ []); body = (c.Then (c.Set 0 (c.Const 0)) (c.Then (c.Set 1 (c.Const 0)) (c.Then (c.Set 2 (c.Const 4)) (c.Then (c.Loop (c.Then (c.If (c.Nonzero kind.Signed (c.Binary two.Lt kind.Signed (c.Temp 2) (c.Const 1))) (c.Then (c.Set 4 (c.Binary two.Add kind.Signed (c.Temp 2) (c.Const 1))) (c.Then (c.Set 2 (c.Binary two.Add kind.Signed (c.Temp 2) (c.Const 1))) c.End)) (c.Then c.Break c.End)) c.End)) (c.Then (c.Return (Some (c.Temp 2))) c.End))))) }) (s.Then 1 (s.Set ([]) ([])) s.NoBlock (s.Then 2 (s.Set ([]) ([])) s.NoBlock (s.Then 3 (s.Set ([]) ([])) s.NoBlock (s.Then 4 (s.While (record { opened = (sort.Int ∷ []); facts = ((Rel relation.Le (Number (pos 0)) (Var 0 sort.Int)) ∷ (Rel relation.Le (Var 0 sort.Int) (Number (pos 1))) ∷ []); locals = ((name_s, (Of unary.Vi (Number (pos 0)))) ∷ (name_t, (Of unary.Vi (Number (pos 0)))) ∷ (name_i, (Of unary.Vi (Var 0 sort.Int))) ∷ []); items = ((Data (Number (pos 64)) (Global name_arr) (Of2 binary.Cons (Of unary.Vi (Number (pos 1))) (Of2 binary.Cons (Of unary.Vi (Number (pos 2))) (Of2 binary.Cons (Of unary.Vi (Number (pos 0))) (Of2 binary.Cons (Of unary.Vi (Number (pos 0))) Nil))))) ∷ []) }) (record { opened = (sort.Int ∷ []); facts = ((Rel relation.Le (Number (pos 0)) (Var 0 sort.Int)) ∷ (Rel relation.Le (Var 0 sort.Int) (Number (pos 1))) ∷ (Rel relation.Le (Number (pos 1)) (Var 0 sort.Int)) ∷ []); locals = ((name_s, (Of unary.Vi (Number (pos 0)))) ∷ (name_t, (Of unary.Vi (Number (pos 0)))) ∷ (name_i, (Of unary.Vi (Var 0 sort.Int))) ∷ []); items = ((Data (Number (pos 64)) (Global name_arr) (Of2 binary.Cons (Of unary.Vi (Number (pos 1))) (Of2 binary.Cons (Of unary.Vi (Number (pos 2))) (Of2 binary.Cons (Of unary.Vi (Number (pos 0))) (Of2 binary.Cons (Of unary.Vi (Number (pos 0))) Nil))))) ∷ []) }) (name_k2 ∷ []) ([]) (name_k1 ∷ [])) (s.WithBlock (s.Then 5 (s.Meet ((Number (pos 0)) ∷ []) ([])) s.NoBlock s.End) (s.WithBlock (s.Then 6 (s.If ([]) ((record { lines = ((line.Comb (((pos 1), 0) ∷ ((pos 1), 2) ∷ [])) ∷ []) }) ∷ (record { lines = ((line.Comb (((pos 1), 1) ∷ ((pos 1), 2) ∷ [])) ∷ []) }) ∷ []) ([]) ([])) (s.WithBlock (s.Then 7 (s.Set ([]) ((record { lines = ((line.Comb (((pos 1), 0) ∷ ((pos 1), 3) ∷ [])) ∷ []) }) ∷ (record { lines = ((line.Comb (((pos 1), 1) ∷ ((pos 1), 3) ∷ [])) ∷ []) }) ∷ (record { lines = ((line.Comb (((pos 1), 0) ∷ ((pos 1), 3) ∷ [])) ∷ []) }) ∷ (record { lines = ((line.Comb (((pos 1), 1) ∷ ((pos 1), 3) ∷ [])) ∷ []) }) ∷ [])) s.NoBlock (s.Then 8 (s.Set ([]) ((record { lines = ((line.Comb (((pos 1), 0) ∷ ((pos 1), 3) ∷ [])) ∷ []) }) ∷ (record { lines = ((line.Comb (((pos 1), 1) ∷ ((pos 1), 3) ∷ [])) ∷ []) }) ∷ (record { lines = ((line.Comb (((pos 1), 0) ∷ ((pos 1), 3) ∷ [])) ∷ []) }) ∷ (record { lines = ((line.Comb (((pos 1), 1) ∷ ((pos 1), 3) ∷ [])) ∷ []) }) ∷ [])) s.NoBlock (s.Then 9 (s.Fall ((Of2 binary.Add (Named name_k1) (Number (pos 1))) ∷ []) ((record { lines = ((line.Comb (((pos 1), 0) ∷ ((pos 1), 3) ∷ [])) ∷ []) }) ∷ [])) s.NoBlock s.End))) (s.WithBlock (s.Then 10 (s.Break ((Named name_k1) ∷ []) ([])) s.NoBlock s.End) s.NoBlock)) s.End) s.NoBlock)) (s.Then 11 (s.Return ((Of2 binary.Cons (Of unary.Vi (Number (pos 1))) (Of2 binary.Cons (Of unary.Vi (Number (pos 2))) (Of2 binary.Cons (Of unary.Vi (Number (pos 0))) (Of2 binary.Cons (Of unary.Vi (Number (pos 0))) Nil)))) ∷ []) ([]) ([])) s.NoBlock s.End))))) ≡ (RefusedAt 5 37 4)
unfolding computing
random_30 = refl

random_31 : body_verdict (record { predicates = ((record { name = name_iv; args = ([]); cases = ((record { opened = (sort.Int ∷ []); facts = ((Rel relation.Le (Number (pos 0)) (Var 0 sort.Int)) ∷ (Rel relation.Le (Var 0 sort.Int) (Number (pos 50))) ∷ []); locals = []; items = ((Data (Number (pos 64)) (Global name_x) (Of2 binary.Cons (Of unary.Vi (Var 0 sort.Int)) Nil)) ∷ []) }) ∷ []) }) ∷ []); specs = ((record { is_void = false; name = name_main; params = ([]); vars = []; pre = (record { opened = []; facts = ([]); locals = []; items = ((Data (Number (pos 64)) (Global name_g) (Of2 binary.Cons (Of unary.Vi (Number (pos 3))) Nil)) ∷ (Data (Number (pos 64)) (Global name_arr) (Of2 binary.Cons (Of unary.Vi (Number (pos 1))) (Of2 binary.Cons (Of unary.Vi (Number (pos 2))) (Of2 binary.Cons (Of unary.Vi (Number (pos 0))) (Of2 binary.Cons (Of unary.Vi (Number (pos 0))) Nil))))) ∷ (Data (Number (pos 64)) (Global name_x) (Of2 binary.Cons (Of unary.Vi (Number (pos 3))) Nil)) ∷ (Data (Number (pos 64)) (Global name_l) (Of2 binary.Cons (Of unary.Vi (Number (pos 0))) Nil)) ∷ []) }); post = (record { opened = (sort.List ∷ []); facts = ((Rel relation.Eq (Var 0 sort.Val) (Of unary.Vi (Number (pos 0)))) ∷ []); locals = []; items = ((Data (Number (pos 64)) (Global name_g) (Of2 binary.Cons (Of unary.Vi (Number (pos 3))) Nil)) ∷ (Data (Number (pos 64)) (Global name_arr) (Of2 binary.Cons (Of unary.Vi (Number (pos 1))) (Of2 binary.Cons (Of unary.Vi (Number (pos 2))) (Of2 binary.Cons (Of unary.Vi (Number (pos 0))) (Of2 binary.Cons (Of unary.Vi (Number (pos 0))) Nil))))) ∷ (Data (Number (pos 64)) (Global name_x) (Var 1 sort.List)) ∷ (Data (Number (pos 64)) (Global name_l) (Of2 binary.Cons Undef Nil)) ∷ []) }) }) ∷ []) }) (record { is_void = false; name = name_main; params = ([]); vars = []; pre = (record { opened = []; facts = ([]); locals = []; items = ((Data (Number (pos 64)) (Global name_g) (Of2 binary.Cons (Of unary.Vi (Number (pos 3))) Nil)) ∷ (Data (Number (pos 64)) (Global name_arr) (Of2 binary.Cons (Of unary.Vi (Number (pos 1))) (Of2 binary.Cons (Of unary.Vi (Number (pos 2))) (Of2 binary.Cons (Of unary.Vi (Number (pos 0))) (Of2 binary.Cons (Of unary.Vi (Number (pos 0))) Nil))))) ∷ (Data (Number (pos 64)) (Global name_x) (Of2 binary.Cons (Of unary.Vi (Number (pos 3))) Nil)) ∷ (Data (Number (pos 64)) (Global name_l) (Of2 binary.Cons (Of unary.Vi (Number (pos 0))) Nil)) ∷ []) }); post = (record { opened = (sort.List ∷ []); facts = ((Rel relation.Eq (Var 0 sort.Val) (Of unary.Vi (Number (pos 0)))) ∷ []); locals = []; items = ((Data (Number (pos 64)) (Global name_g) (Of2 binary.Cons (Of unary.Vi (Number (pos 3))) Nil)) ∷ (Data (Number (pos 64)) (Global name_arr) (Of2 binary.Cons (Of unary.Vi (Number (pos 1))) (Of2 binary.Cons (Of unary.Vi (Number (pos 2))) (Of2 binary.Cons (Of unary.Vi (Number (pos 0))) (Of2 binary.Cons (Of unary.Vi (Number (pos 0))) Nil))))) ∷ (Data (Number (pos 64)) (Global name_x) (Var 1 sort.List)) ∷ (Data (Number (pos 64)) (Global name_l) (Of2 binary.Cons Undef Nil)) ∷ []) }) }) (record { temps = (name_s ∷ name_t ∷ name_i ∷ name_x1 ∷ name_d0 ∷ name_p1 ∷ name_q1 ∷ []); body = (c.Then (c.Set 0 (c.Const 1)) (c.Then (c.Set 1 (c.Const 2)) (c.Then (c.OnLock lock.Make (c.Address (root.Global name_l 1) c.Here)) (c.Then (c.OnLock lock.Release (c.Address (root.Global name_l 1) c.Here)) (c.Then (c.Set 0 (c.Binary two.Add kind.Signed (c.Const 2) (c.Const 2))) (c.Then (c.Load 0 (root.Global name_arr 4) (c.Index kind.Signed (c.Const 1) c.Here)) (c.Then (c.Set 0 (c.Const 1)) (c.Then (c.OnLock lock.Acquire (c.Address (root.Global name_l 1) c.Here)) (c.Then (c.OnLock lock.Free (c.Address (root.Global name_l 1) c.Here)) (c.Then (c.Return (Some (c.Const 0))) c.End)))))))))) }) (s.Then 1 (s.Law name_vi_wrap ((Number (pos 2)) ∷ (Number (pos 1)) ∷ []) ([])) s.NoBlock (s.Then 2 (s.Set ([]) ([])) s.NoBlock (s.Then 3 (s.Set ([]) ([])) s.NoBlock (s.Then 4 (s.MakeLock 3 (record { name = name_iv; args = ([]) }) ([]) ([])) s.NoBlock (s.Then 5 (s.Fold name_iv 0 ([]) ((Number (pos 3)) ∷ []) ([])) s.NoBlock (s.Then 6 (s.Release 3 4 ([])) s.NoBlock (s.Then 7 (s.Set ([]) ([])) s.NoBlock (s.Then 8 (s.Load 1 ([]) ([])) s.NoBlock (s.Then 9 (s.Set ([]) ([])) s.NoBlock (s.Then 10 (s.Acquire 2 ([])) s.NoBlock (s.Then 11 (s.Unfold 4 ((name_k1 ∷ []) ∷ [])) (s.WithBlock (s.Then 12 (s.FreeLock 2 3 ([]) ([])) s.NoBlock (s.Then 13 (s.Return ((Of2 binary.Cons (Of unary.Vi (Named name_k1)) Nil) ∷ []) ([]) ([])) s.NoBlock s.End)) s.NoBlock) s.End))))))))))) ≡ Accepted
unfolding computing
random_31 = refl

random_32 : body_verdict (record { predicates = ((record { name = name_iv; args = ([]); cases = ((record { opened = (sort.Int ∷ []); facts = ((Rel relation.Le (Number (pos 0)) (Var 0 sort.Int)) ∷ (Rel relation.Le (Var 0 sort.Int) (Number (pos 50))) ∷ []); locals = []; items = ((Data (Number (pos 64)) (Global name_x) (Of2 binary.Cons (Of unary.Vi (Var 0 sort.Int)) Nil)) ∷ []) }) ∷ []) }) ∷ []); specs = ((record { is_void = false; name = name_main; params = ([]); vars = []; pre = (record { opened = []; facts = ([]); locals = []; items = ((Data (Number (pos 64)) (Global name_g) (Of2 binary.Cons (Of unary.Vi (Number (pos 3))) Nil)) ∷ (Data (Number (pos 64)) (Global name_arr) (Of2 binary.Cons (Of unary.Vi (Number (pos 1))) (Of2 binary.Cons (Of unary.Vi (Number (pos 2))) (Of2 binary.Cons (Of unary.Vi (Number (pos 0))) (Of2 binary.Cons (Of unary.Vi (Number (pos 0))) Nil))))) ∷ (Data (Number (pos 64)) (Global name_x) (Of2 binary.Cons (Of unary.Vi (Number (pos 3))) Nil)) ∷ (Data (Number (pos 64)) (Global name_l) (Of2 binary.Cons (Of unary.Vi (Number (pos 0))) Nil)) ∷ []) }); post = (record { opened = (sort.List ∷ []); facts = ((Rel relation.Eq (Var 0 sort.Val) (Of unary.Vi (Number (pos 0)))) ∷ []); locals = []; items = ((Data (Number (pos 64)) (Global name_g) (Of2 binary.Cons (Of unary.Vi (Number (pos 3))) Nil)) ∷ (Data (Number (pos 64)) (Global name_arr) (Of2 binary.Cons (Of unary.Vi (Number (pos 1))) (Of2 binary.Cons (Of unary.Vi (Number (pos 2))) (Of2 binary.Cons (Of unary.Vi (Number (pos 0))) (Of2 binary.Cons (Of unary.Vi (Number (pos 0))) Nil))))) ∷ (Data (Number (pos 64)) (Global name_x) (Var 1 sort.List)) ∷ (Data (Number (pos 64)) (Global name_l) (Of2 binary.Cons Undef Nil)) ∷ []) }) }) ∷ []) }) (record { is_void = false; name = name_main; params = ([]); vars = []; pre = (record { opened = []; facts = ([]); locals = []; items = ((Data (Number (pos 64)) (Global name_g) (Of2 binary.Cons (Of unary.Vi (Number (pos 3))) Nil)) ∷ (Data (Number (pos 64)) (Global name_arr) (Of2 binary.Cons (Of unary.Vi (Number (pos 1))) (Of2 binary.Cons (Of unary.Vi (Number (pos 2))) (Of2 binary.Cons (Of unary.Vi (Number (pos 0))) (Of2 binary.Cons (Of unary.Vi (Number (pos 0))) Nil))))) ∷ (Data (Number (pos 64)) (Global name_x) (Of2 binary.Cons (Of unary.Vi (Number (pos 3))) Nil)) ∷ (Data (Number (pos 64)) (Global name_l) (Of2 binary.Cons (Of unary.Vi (Number (pos 0))) Nil)) ∷ []) }); post = (record { opened = (sort.List ∷ []); facts = ((Rel relation.Eq (Var 0 sort.Val) (Of unary.Vi (Number (pos 0)))) ∷ []); locals = []; items = ((Data (Number (pos 64)) (Global name_g) (Of2 binary.Cons (Of unary.Vi (Number (pos 3))) Nil)) ∷ (Data (Number (pos 64)) (Global name_arr) (Of2 binary.Cons (Of unary.Vi (Number (pos 1))) (Of2 binary.Cons (Of unary.Vi (Number (pos 2))) (Of2 binary.Cons (Of unary.Vi (Number (pos 0))) (Of2 binary.Cons (Of unary.Vi (Number (pos 0))) Nil))))) ∷ (Data (Number (pos 64)) (Global name_x) (Var 1 sort.List)) ∷ (Data (Number (pos 64)) (Global name_l) (Of2 binary.Cons Undef Nil)) ∷ []) }) }) (record { temps = (name_s ∷ name_t ∷ name_i ∷ name_x1 ∷ name_d0 ∷ name_p1 ∷ name_q1 ∷ []); body = (c.Then (c.Set 0 (c.Const 1)) (c.Then (c.Set 1 (c.Const 2)) (c.Then (c.OnLock lock.Make (c.Address (root.Global name_l 1) c.Here)) (c.Then (c.OnLock lock.Release (c.Address (root.Global name_l 1) c.Here)) (c.Then (c.Set 0 (c.Binary two.Add kind.Signed (c.Const 2) (c.Const 2))) (c.Then (c.Load 0 (root.Global name_arr 4) (c.Index kind.Signed (c.Const 1) c.Here)) (c.Then (c.Set 0 (c.Const 1)) (c.Then (c.OnLock lock.Acquire (c.Address (root.Global name_l 1) c.Here)) (c.Then (c.OnLock lock.Free (c.Address (root.Global name_l 1) c.Here)) (c.Then (c.Return (Some (c.Const 0))) c.End)))))))))) }) (s.Then 1 (s.Law name_vi_wrap ((Number (pos 2)) ∷ (Number (pos 3)) ∷ []) ([])) s.NoBlock (s.Then 2 (s.Set ([]) ([])) s.NoBlock (s.Then 3 (s.Set ([]) ([])) s.NoBlock (s.Then 4 (s.MakeLock 3 (record { name = name_iv; args = ([]) }) ([]) ([])) s.NoBlock (s.Then 5 (s.Fold name_iv 0 ([]) ((Number (pos 3)) ∷ []) ([])) s.NoBlock (s.Then 6 (s.Release 3 4 ([])) s.NoBlock (s.Then 7 (s.Set ([]) ([])) s.NoBlock (s.Then 8 (s.Load 1 ([]) ([])) s.NoBlock (s.Then 9 (s.Set ([]) ([])) s.NoBlock (s.Then 10 (s.Acquire 2 ([])) s.NoBlock (s.Then 11 (s.Unfold 4 ((name_k1 ∷ []) ∷ [])) (s.WithBlock (s.Then 12 (s.FreeLock 2 3 ([]) ([])) s.NoBlock (s.Then 13 (s.Return ((Of2 binary.Cons (Of unary.Vi (Named name_k1)) Nil) ∷ []) ([]) ([])) s.NoBlock s.End)) s.NoBlock) s.End))))))))))) ≡ Accepted
unfolding computing
random_32 = refl

random_33 : body_verdict (record { predicates = ((record { name = name_iv; args = ([]); cases = ((record { opened = (sort.Int ∷ []); facts = ((Rel relation.Le (Number (pos 0)) (Var 0 sort.Int)) ∷ (Rel relation.Le (Var 0 sort.Int) (Number (pos 50))) ∷ []); locals = []; items = ((Data (Number (pos 64)) (Global name_x) (Of2 binary.Cons (Of unary.Vi (Var 0 sort.Int)) Nil)) ∷ []) }) ∷ []) }) ∷ []); specs = ((record { is_void = false; name = name_main; params = ([]); vars = []; pre = (record { opened = []; facts = ([]); locals = []; items = ((Data (Number (pos 64)) (Global name_g) (Of2 binary.Cons (Of unary.Vi (Number (pos 3))) Nil)) ∷ (Data (Number (pos 64)) (Global name_arr) (Of2 binary.Cons (Of unary.Vi (Number (pos 1))) (Of2 binary.Cons (Of unary.Vi (Number (pos 2))) (Of2 binary.Cons (Of unary.Vi (Number (pos 0))) (Of2 binary.Cons (Of unary.Vi (Number (pos 0))) Nil))))) ∷ (Data (Number (pos 64)) (Global name_x) (Of2 binary.Cons (Of unary.Vi (Number (pos 3))) Nil)) ∷ (Data (Number (pos 64)) (Global name_l) (Of2 binary.Cons (Of unary.Vi (Number (pos 0))) Nil)) ∷ []) }); post = (record { opened = (sort.List ∷ []); facts = ((Rel relation.Eq (Var 0 sort.Val) (Of unary.Vi (Number (pos 0)))) ∷ []); locals = []; items = ((Data (Number (pos 64)) (Global name_g) (Of2 binary.Cons (Of unary.Vi (Number (pos 3))) Nil)) ∷ (Data (Number (pos 64)) (Global name_arr) (Of2 binary.Cons (Of unary.Vi (Number (pos 1))) (Of2 binary.Cons (Of unary.Vi (Number (pos 2))) (Of2 binary.Cons (Of unary.Vi (Number (pos 0))) (Of2 binary.Cons (Of unary.Vi (Number (pos 0))) Nil))))) ∷ (Data (Number (pos 64)) (Global name_x) (Var 1 sort.List)) ∷ (Data (Number (pos 64)) (Global name_l) (Of2 binary.Cons Undef Nil)) ∷ []) }) }) ∷ []) }) (record { is_void = false; name = name_main; params = ([]); vars = []; pre = (record { opened = []; facts = ([]); locals = []; items = ((Data (Number (pos 64)) (Global name_g) (Of2 binary.Cons (Of unary.Vi (Number (pos 3))) Nil)) ∷ (Data (Number (pos 64)) (Global name_arr) (Of2 binary.Cons (Of unary.Vi (Number (pos 1))) (Of2 binary.Cons (Of unary.Vi (Number (pos 2))) (Of2 binary.Cons (Of unary.Vi (Number (pos 0))) (Of2 binary.Cons (Of unary.Vi (Number (pos 0))) Nil))))) ∷ (Data (Number (pos 64)) (Global name_x) (Of2 binary.Cons (Of unary.Vi (Number (pos 3))) Nil)) ∷ (Data (Number (pos 64)) (Global name_l) (Of2 binary.Cons (Of unary.Vi (Number (pos 0))) Nil)) ∷ []) }); post = (record { opened = (sort.List ∷ []); facts = ((Rel relation.Eq (Var 0 sort.Val) (Of unary.Vi (Number (pos 0)))) ∷ []); locals = []; items = ((Data (Number (pos 64)) (Global name_g) (Of2 binary.Cons (Of unary.Vi (Number (pos 3))) Nil)) ∷ (Data (Number (pos 64)) (Global name_arr) (Of2 binary.Cons (Of unary.Vi (Number (pos 1))) (Of2 binary.Cons (Of unary.Vi (Number (pos 2))) (Of2 binary.Cons (Of unary.Vi (Number (pos 0))) (Of2 binary.Cons (Of unary.Vi (Number (pos 0))) Nil))))) ∷ (Data (Number (pos 64)) (Global name_x) (Var 1 sort.List)) ∷ (Data (Number (pos 64)) (Global name_l) (Of2 binary.Cons Undef Nil)) ∷ []) }) }) (record { temps = (name_s ∷ name_t ∷ name_i ∷ name_x1 ∷ name_d0 ∷ name_p1 ∷ name_q1 ∷ []); body = (c.Then (c.Set 0 (c.Const 1)) (c.Then (c.Set 1 (c.Const 2)) (c.Then (c.OnLock lock.Make (c.Address (root.Global name_l 1) c.Here)) (c.Then (c.OnLock lock.Release (c.Address (root.Global name_l 1) c.Here)) (c.Then (c.Set 0 (c.Binary two.Add kind.Signed (c.Const 2) (c.Const 2))) (c.Then (c.Load 0 (root.Global name_arr 4) (c.Index kind.Signed (c.Const 1) c.Here)) (c.Then (c.Set 0 (c.Const 1)) (c.Then (c.OnLock lock.Acquire (c.Address (root.Global name_l 1) c.Here)) (c.Then (c.OnLock lock.Free (c.Address (root.Global name_l 1) c.Here)) (c.Then (c.Return (Some (c.Const 0))) c.End)))))))))) }) (s.Then 1 (s.Law name_vi_wrap ((Number (pos 2)) ∷ (Number (pos 1)) ∷ []) ([])) s.NoBlock (s.Then 2 (s.Set ([]) ([])) s.NoBlock (s.Then 3 (s.Set ([]) ([])) s.NoBlock (s.Then 4 (s.MakeLock 3 (record { name = name_iv; args = ([]) }) ([]) ([])) s.NoBlock (s.Then 5 (s.Fold name_iv 0 ([]) ((Number (pos 3)) ∷ []) ([])) s.NoBlock (s.Then 6 (s.Release 3 4 ([])) s.NoBlock (s.Then 7 (s.Set ([]) ([])) s.NoBlock (s.Then 8 (s.Load 1 ([]) ([])) s.NoBlock (s.Then 9 (s.Set ([]) ([])) s.NoBlock (s.Then 10 (s.Acquire 2 ([])) s.NoBlock (s.Then 11 (s.Unfold 3 ((name_k1 ∷ []) ∷ [])) (s.WithBlock (s.Then 12 (s.FreeLock 2 3 ([]) ([])) s.NoBlock (s.Then 13 (s.Return ((Of2 binary.Cons (Of unary.Vi (Named name_k1)) Nil) ∷ []) ([]) ([])) s.NoBlock s.End)) s.NoBlock) s.End))))))))))) ≡ (RefusedAt 11 22 1)
unfolding computing
random_33 = refl

random_34 : body_verdict (record { predicates = ((record { name = name_iv; args = ([]); cases = ((record { opened = (sort.Int ∷ []); facts = ((Rel relation.Le (Number (pos 0)) (Var 0 sort.Int)) ∷ (Rel relation.Le (Var 0 sort.Int) (Number (pos 50))) ∷ []); locals = []; items = ((Data (Number (pos 64)) (Global name_x) (Of2 binary.Cons (Of unary.Vi (Var 0 sort.Int)) Nil)) ∷ []) }) ∷ []) }) ∷ []); specs = ((record { is_void = false; name = name_main; params = ([]); vars = []; pre = (record { opened = []; facts = ([]); locals = []; items = ((Data (Number (pos 64)) (Global name_g) (Of2 binary.Cons (Of unary.Vi (Number (pos 3))) Nil)) ∷ (Data (Number (pos 64)) (Global name_arr) (Of2 binary.Cons (Of unary.Vi (Number (pos 1))) (Of2 binary.Cons (Of unary.Vi (Number (pos 2))) (Of2 binary.Cons (Of unary.Vi (Number (pos 0))) (Of2 binary.Cons (Of unary.Vi (Number (pos 0))) Nil))))) ∷ (Data (Number (pos 64)) (Global name_x) (Of2 binary.Cons (Of unary.Vi (Number (pos 3))) Nil)) ∷ (Data (Number (pos 64)) (Global name_l) (Of2 binary.Cons (Of unary.Vi (Number (pos 0))) Nil)) ∷ []) }); post = (record { opened = (sort.List ∷ []); facts = ((Rel relation.Eq (Var 0 sort.Val) (Of unary.Vi (Number (pos 0)))) ∷ []); locals = []; items = ((Data (Number (pos 64)) (Global name_g) (Of2 binary.Cons (Of unary.Vi (Number (pos 3))) Nil)) ∷ (Data (Number (pos 64)) (Global name_arr) (Of2 binary.Cons (Of unary.Vi (Number (pos 1))) (Of2 binary.Cons (Of unary.Vi (Number (pos 2))) (Of2 binary.Cons (Of unary.Vi (Number (pos 0))) (Of2 binary.Cons (Of unary.Vi (Number (pos 0))) Nil))))) ∷ (Data (Number (pos 64)) (Global name_x) (Var 1 sort.List)) ∷ (Data (Number (pos 64)) (Global name_l) (Of2 binary.Cons Undef Nil)) ∷ []) }) }) ∷ []) }) (record { is_void = false; name = name_main; params = ([]); vars = []; pre = (record { opened = []; facts = ([]); locals = []; items = ((Data (Number (pos 64)) (Global name_g) (Of2 binary.Cons (Of unary.Vi (Number (pos 3))) Nil)) ∷ (Data (Number (pos 64)) (Global name_arr) (Of2 binary.Cons (Of unary.Vi (Number (pos 1))) (Of2 binary.Cons (Of unary.Vi (Number (pos 2))) (Of2 binary.Cons (Of unary.Vi (Number (pos 0))) (Of2 binary.Cons (Of unary.Vi (Number (pos 0))) Nil))))) ∷ (Data (Number (pos 64)) (Global name_x) (Of2 binary.Cons (Of unary.Vi (Number (pos 3))) Nil)) ∷ (Data (Number (pos 64)) (Global name_l) (Of2 binary.Cons (Of unary.Vi (Number (pos 0))) Nil)) ∷ []) }); post = (record { opened = (sort.List ∷ []); facts = ((Rel relation.Eq (Var 0 sort.Val) (Of unary.Vi (Number (pos 0)))) ∷ []); locals = []; items = ((Data (Number (pos 64)) (Global name_g) (Of2 binary.Cons (Of unary.Vi (Number (pos 3))) Nil)) ∷ (Data (Number (pos 64)) (Global name_arr) (Of2 binary.Cons (Of unary.Vi (Number (pos 1))) (Of2 binary.Cons (Of unary.Vi (Number (pos 2))) (Of2 binary.Cons (Of unary.Vi (Number (pos 0))) (Of2 binary.Cons (Of unary.Vi (Number (pos 0))) Nil))))) ∷ (Data (Number (pos 64)) (Global name_x) (Var 1 sort.List)) ∷ (Data (Number (pos 64)) (Global name_l) (Of2 binary.Cons Undef Nil)) ∷ []) }) }) (record { temps = (name_s ∷ name_t ∷ name_i ∷ name_x1 ∷ name_d0 ∷ name_p1 ∷ name_q1 ∷ []); body = (c.Then (c.Set 0 (c.Const 1)) (c.Then (c.Set 1 (c.Const 2)) (c.Then (c.OnLock lock.Make (c.Address (root.Global name_l 1) c.Here)) (c.Then (c.OnLock lock.Release (c.Address (root.Global name_l 1) c.Here)) (c.Then (c.Set 0 (c.Binary two.Add kind.Signed (c.Const 2) (c.Const 2))) (c.Then (c.Load 0 (root.Global name_arr 4) (c.Index kind.Signed (c.Const 1) c.Here)) (c.Then (c.Set 0 (c.Const 1)) (c.Then (c.OnLock lock.Acquire (c.Address (root.Global name_l 1) c.Here)) (c.Then (c.OnLock lock.Free (c.Address (root.Global name_l 1) c.Here)) (c.Then (c.Return (Some (c.Const 0))) c.End)))))))))) }) (s.Then 1 (s.Law name_vi_wrap ((Number (pos 2)) ∷ (Number (pos 1)) ∷ []) ([])) s.NoBlock (s.Then 2 (s.Set ([]) ([])) s.NoBlock (s.Then 3 (s.Set ([]) ([])) s.NoBlock (s.Then 4 (s.MakeLock 3 (record { name = name_iv; args = ([]) }) ([]) ([])) s.NoBlock (s.Then 5 (s.Fold name_iv 1 ([]) ((Number (pos 3)) ∷ []) ([])) s.NoBlock (s.Then 6 (s.Release 3 4 ([])) s.NoBlock (s.Then 7 (s.Set ([]) ([])) s.NoBlock (s.Then 8 (s.Load 1 ([]) ([])) s.NoBlock (s.Then 9 (s.Set ([]) ([])) s.NoBlock (s.Then 10 (s.Acquire 2 ([])) s.NoBlock (s.Then 11 (s.Unfold 4 ((name_k1 ∷ []) ∷ [])) (s.WithBlock (s.Then 12 (s.FreeLock 2 3 ([]) ([])) s.NoBlock (s.Then 13 (s.Return ((Of2 binary.Cons (Of unary.Vi (Named name_k1)) Nil) ∷ []) ([]) ([])) s.NoBlock s.End)) s.NoBlock) s.End))))))))))) ≡ (RefusedAt 5 21 1)
unfolding computing
random_34 = refl

random_35 : body_verdict (record { predicates = ((record { name = name_iv; args = ([]); cases = ((record { opened = (sort.Int ∷ []); facts = ((Rel relation.Le (Number (pos 0)) (Var 0 sort.Int)) ∷ (Rel relation.Le (Var 0 sort.Int) (Number (pos 50))) ∷ []); locals = []; items = ((Data (Number (pos 64)) (Global name_x) (Of2 binary.Cons (Of unary.Vi (Var 0 sort.Int)) Nil)) ∷ []) }) ∷ []) }) ∷ []); specs = ((record { is_void = false; name = name_main; params = ([]); vars = []; pre = (record { opened = []; facts = ([]); locals = []; items = ((Data (Number (pos 64)) (Global name_g) (Of2 binary.Cons (Of unary.Vi (Number (pos 3))) Nil)) ∷ (Data (Number (pos 64)) (Global name_arr) (Of2 binary.Cons (Of unary.Vi (Number (pos 1))) (Of2 binary.Cons (Of unary.Vi (Number (pos 2))) (Of2 binary.Cons (Of unary.Vi (Number (pos 0))) (Of2 binary.Cons (Of unary.Vi (Number (pos 0))) Nil))))) ∷ (Data (Number (pos 64)) (Global name_x) (Of2 binary.Cons (Of unary.Vi (Number (pos 3))) Nil)) ∷ (Data (Number (pos 64)) (Global name_l) (Of2 binary.Cons (Of unary.Vi (Number (pos 0))) Nil)) ∷ []) }); post = (record { opened = (sort.List ∷ []); facts = ((Rel relation.Eq (Var 0 sort.Val) (Of unary.Vi (Number (pos 0)))) ∷ []); locals = []; items = ((Data (Number (pos 64)) (Global name_g) (Of2 binary.Cons (Of unary.Vi (Number (pos 3))) Nil)) ∷ (Data (Number (pos 64)) (Global name_arr) (Of2 binary.Cons (Of unary.Vi (Number (pos 1))) (Of2 binary.Cons (Of unary.Vi (Number (pos 2))) (Of2 binary.Cons (Of unary.Vi (Number (pos 0))) (Of2 binary.Cons (Of unary.Vi (Number (pos 0))) Nil))))) ∷ (Data (Number (pos 64)) (Global name_x) (Var 1 sort.List)) ∷ (Data (Number (pos 64)) (Global name_l) (Of2 binary.Cons Undef Nil)) ∷ []) }) }) ∷ []) }) (record { is_void = false; name = name_main; params = ([]); vars = []; pre = (record { opened = []; facts = ([]); locals = []; items = ((Data (Number (pos 64)) (Global name_g) (Of2 binary.Cons (Of unary.Vi (Number (pos 3))) Nil)) ∷ (Data (Number (pos 64)) (Global name_arr) (Of2 binary.Cons (Of unary.Vi (Number (pos 1))) (Of2 binary.Cons (Of unary.Vi (Number (pos 2))) (Of2 binary.Cons (Of unary.Vi (Number (pos 0))) (Of2 binary.Cons (Of unary.Vi (Number (pos 0))) Nil))))) ∷ (Data (Number (pos 64)) (Global name_x) (Of2 binary.Cons (Of unary.Vi (Number (pos 3))) Nil)) ∷ (Data (Number (pos 64)) (Global name_l) (Of2 binary.Cons (Of unary.Vi (Number (pos 0))) Nil)) ∷ []) }); post = (record { opened = (sort.List ∷ []); facts = ((Rel relation.Eq (Var 0 sort.Val) (Of unary.Vi (Number (pos 0)))) ∷ []); locals = []; items = ((Data (Number (pos 64)) (Global name_g) (Of2 binary.Cons (Of unary.Vi (Number (pos 3))) Nil)) ∷ (Data (Number (pos 64)) (Global name_arr) (Of2 binary.Cons (Of unary.Vi (Number (pos 1))) (Of2 binary.Cons (Of unary.Vi (Number (pos 2))) (Of2 binary.Cons (Of unary.Vi (Number (pos 0))) (Of2 binary.Cons (Of unary.Vi (Number (pos 0))) Nil))))) ∷ (Data (Number (pos 64)) (Global name_x) (Var 1 sort.List)) ∷ (Data (Number (pos 64)) (Global name_l) (Of2 binary.Cons Undef Nil)) ∷ []) }) }) (record { temps = (name_s ∷ name_t ∷ name_i ∷ name_x1 ∷ name_d0 ∷ name_p1 ∷ []); body = (c.Then (c.OnLock lock.Release (c.Address (root.Global name_l 1) c.Here)) (c.Then (c.Set 0 (c.Const 1)) (c.Then (c.Set 1 (c.Const 2)) (c.Then (c.OnLock lock.Make (c.Address (root.Global name_l 1) c.Here)) (c.Then (c.OnLock lock.Release (c.Address (root.Global name_l 1) c.Here)) (c.Then (c.Set 0 (c.Binary two.Add kind.Signed (c.Const 2) (c.Const 2))) (c.Then (c.Load 0 (root.Global name_arr 4) (c.Index kind.Signed (c.Const 1) c.Here)) (c.Then (c.Set 0 (c.Const 1)) (c.Then (c.OnLock lock.Acquire (c.Address (root.Global name_l 1) c.Here)) (c.Then (c.OnLock lock.Free (c.Address (root.Global name_l 1) c.Here)) (c.Then (c.Return (Some (c.Const 0))) c.End))))))))))) }) (s.Then 1 (s.Law name_vi_wrap ((Number (pos 2)) ∷ (Number (pos 1)) ∷ []) ([])) s.NoBlock (s.Then 2 (s.Set ([]) ([])) s.NoBlock (s.Then 3 (s.Set ([]) ([])) s.NoBlock (s.Then 4 (s.MakeLock 3 (record { name = name_iv; args = ([]) }) ([]) ([])) s.NoBlock (s.Then 5 (s.Fold name_iv 0 ([]) ((Number (pos 3)) ∷ []) ([])) s.NoBlock (s.Then 6 (s.Release 3 4 ([])) s.NoBlock (s.Then 7 (s.Set ([]) ([])) s.NoBlock (s.Then 8 (s.Load 1 ([]) ([])) s.NoBlock (s.Then 9 (s.Set ([]) ([])) s.NoBlock (s.Then 10 (s.Acquire 2 ([])) s.NoBlock (s.Then 11 (s.Unfold 4 ((name_k1 ∷ []) ∷ [])) (s.WithBlock (s.Then 12 (s.FreeLock 2 3 ([]) ([])) s.NoBlock (s.Then 13 (s.Return ((Of2 binary.Cons (Of unary.Vi (Named name_k1)) Nil) ∷ []) ([]) ([])) s.NoBlock s.End)) s.NoBlock) s.End))))))))))) ≡ (RefusedAt 2 2 1)
unfolding computing
random_35 = refl

random_36 : body_verdict (record { predicates = ((record { name = name_iv; args = ([]); cases = ((record { opened = (sort.Int ∷ []); facts = ((Rel relation.Le (Number (pos 0)) (Var 0 sort.Int)) ∷ (Rel relation.Le (Var 0 sort.Int) (Number (pos 50))) ∷ []); locals = []; items = ((Data (Number (pos 64)) (Global name_x) (Of2 binary.Cons (Of unary.Vi (Var 0 sort.Int)) Nil)) ∷ []) }) ∷ []) }) ∷ []); specs = ((record { is_void = false; name = name_main; params = ([]); vars = []; pre = (record { opened = []; facts = ([]); locals = []; items = ((Data (Number (pos 64)) (Global name_g) (Of2 binary.Cons (Of unary.Vi (Number (pos 3))) Nil)) ∷ (Data (Number (pos 64)) (Global name_arr) (Of2 binary.Cons (Of unary.Vi (Number (pos 1))) (Of2 binary.Cons (Of unary.Vi (Number (pos 2))) (Of2 binary.Cons (Of unary.Vi (Number (pos 0))) (Of2 binary.Cons (Of unary.Vi (Number (pos 0))) Nil))))) ∷ (Data (Number (pos 64)) (Global name_x) (Of2 binary.Cons (Of unary.Vi (Number (pos 3))) Nil)) ∷ (Data (Number (pos 64)) (Global name_l) (Of2 binary.Cons (Of unary.Vi (Number (pos 0))) Nil)) ∷ []) }); post = (record { opened = (sort.List ∷ []); facts = ((Rel relation.Eq (Var 0 sort.Val) (Of unary.Vi (Number (pos 0)))) ∷ []); locals = []; items = ((Data (Number (pos 64)) (Global name_g) (Of2 binary.Cons (Of unary.Vi (Number (pos 3))) Nil)) ∷ (Data (Number (pos 64)) (Global name_arr) (Of2 binary.Cons (Of unary.Vi (Number (pos 1))) (Of2 binary.Cons (Of unary.Vi (Number (pos 2))) (Of2 binary.Cons (Of unary.Vi (Number (pos 0))) (Of2 binary.Cons (Of unary.Vi (Number (pos 0))) Nil))))) ∷ (Data (Number (pos 64)) (Global name_x) (Var 1 sort.List)) ∷ (Data (Number (pos 64)) (Global name_l) (Of2 binary.Cons Undef Nil)) ∷ []) }) }) ∷ []) }) (record { is_void = false; name = name_main; params = ([]); vars = []; pre = (record { opened = []; facts = ([]); locals = []; items = ((Data (Number (pos 64)) (Global name_g) (Of2 binary.Cons (Of unary.Vi (Number (pos 3))) Nil)) ∷ (Data (Number (pos 64)) (Global name_arr) (Of2 binary.Cons (Of unary.Vi (Number (pos 1))) (Of2 binary.Cons (Of unary.Vi (Number (pos 2))) (Of2 binary.Cons (Of unary.Vi (Number (pos 0))) (Of2 binary.Cons (Of unary.Vi (Number (pos 0))) Nil))))) ∷ (Data (Number (pos 64)) (Global name_x) (Of2 binary.Cons (Of unary.Vi (Number (pos 3))) Nil)) ∷ (Data (Number (pos 64)) (Global name_l) (Of2 binary.Cons (Of unary.Vi (Number (pos 0))) Nil)) ∷ []) }); post = (record { opened = (sort.List ∷ []); facts = ((Rel relation.Eq (Var 0 sort.Val) (Of unary.Vi (Number (pos 0)))) ∷ []); locals = []; items = ((Data (Number (pos 64)) (Global name_g) (Of2 binary.Cons (Of unary.Vi (Number (pos 3))) Nil)) ∷ (Data (Number (pos 64)) (Global name_arr) (Of2 binary.Cons (Of unary.Vi (Number (pos 1))) (Of2 binary.Cons (Of unary.Vi (Number (pos 2))) (Of2 binary.Cons (Of unary.Vi (Number (pos 0))) (Of2 binary.Cons (Of unary.Vi (Number (pos 0))) Nil))))) ∷ (Data (Number (pos 64)) (Global name_x) (Var 1 sort.List)) ∷ (Data (Number (pos 64)) (Global name_l) (Of2 binary.Cons Undef Nil)) ∷ []) }) }) (record { temps = (name_s ∷ name_t ∷ name_i ∷ name_x1 ∷ name_d0 ∷ name_p1 ∷ name_q1 ∷ []); body = (c.Then (c.Set 0 (c.Const 1)) (c.Then (c.Set 1 (c.Const 2)) (c.Then (c.OnLock lock.Make (c.Address (root.Global name_l 1) c.Here)) (c.Then (c.OnLock lock.Release (c.Address (root.Global name_l 1) c.Here)) (c.Then (c.Set 0 (c.Binary two.Add kind.Signed (c.Const 2) (c.Const 2))) (c.Then (c.Load 0 (root.Global name_arr 4) (c.Index kind.Signed (c.Const 1) c.Here)) (c.Then (c.Set 0 (c.Const 1)) (c.Then (c.OnLock lock.Acquire (c.Address (root.Global name_l 1) c.Here)) (c.Then (c.OnLock lock.Free (c.Address (root.Global name_l 1) c.Here)) (c.Then (c.Return (Some (c.Const 0))) c.End)))))))))) }) (s.Then 1 (s.Law name_vi_wrap ((Number (pos 2)) ∷ (Number (pos 1)) ∷ []) ([])) s.NoBlock (s.Then 2 (s.Set ([]) ([])) s.NoBlock (s.Then 3 (s.Set ([]) ([])) s.NoBlock (s.Then 4 (s.MakeLock 3 (record { name = name_iv; args = ([]) }) ([]) ([])) s.NoBlock (s.Then 5 (s.Fold name_iv 0 ([]) ((Number (pos 3)) ∷ []) ([])) s.NoBlock (s.Then 6 (s.Release 3 4 ([])) s.NoBlock (s.Then 7 (s.Return ([]) ([]) ([])) s.NoBlock (s.Then 8 (s.Spawn ([]) ([]) ([])) s.NoBlock (s.Then 9 (s.Set ([]) ([])) s.NoBlock (s.Then 10 (s.Load 1 ([]) ([])) s.NoBlock (s.Then 11 (s.Set ([]) ([])) s.NoBlock (s.Then 12 (s.Acquire 2 ([])) s.NoBlock (s.Then 13 (s.Unfold 4 ((name_k1 ∷ []) ∷ [])) (s.WithBlock (s.Then 14 (s.FreeLock 2 3 ([]) ([])) s.NoBlock (s.Then 15 (s.Return ((Of2 binary.Cons (Of unary.Vi (Named name_k1)) Nil) ∷ []) ([]) ([])) s.NoBlock s.End)) s.NoBlock) s.End))))))))))))) ≡ (RefusedAt 7 9 1)
unfolding computing
random_36 = refl

random_37 : body_verdict (record { predicates = ((record { name = name_iv; args = ([]); cases = ((record { opened = (sort.Int ∷ []); facts = ((Rel relation.Le (Number (pos 0)) (Var 0 sort.Int)) ∷ (Rel relation.Le (Var 0 sort.Int) (Number (pos 50))) ∷ []); locals = []; items = ((Data (Number (pos 64)) (Global name_x) (Of2 binary.Cons (Of unary.Vi (Var 0 sort.Int)) Nil)) ∷ []) }) ∷ []) }) ∷ []); specs = ((record { is_void = false; name = name_main; params = ([]); vars = []; pre = (record { opened = []; facts = ([]); locals = []; items = ((Data (Number (pos 64)) (Global name_g) (Of2 binary.Cons (Of unary.Vi (Number (pos 3))) Nil)) ∷ (Data (Number (pos 64)) (Global name_arr) (Of2 binary.Cons (Of unary.Vi (Number (pos 1))) (Of2 binary.Cons (Of unary.Vi (Number (pos 2))) (Of2 binary.Cons (Of unary.Vi (Number (pos 0))) (Of2 binary.Cons (Of unary.Vi (Number (pos 0))) Nil))))) ∷ (Data (Number (pos 64)) (Global name_x) (Of2 binary.Cons (Of unary.Vi (Number (pos 3))) Nil)) ∷ (Data (Number (pos 64)) (Global name_l) (Of2 binary.Cons (Of unary.Vi (Number (pos 0))) Nil)) ∷ []) }); post = (record { opened = (sort.List ∷ []); facts = ((Rel relation.Eq (Var 0 sort.Val) (Of unary.Vi (Number (pos 0)))) ∷ []); locals = []; items = ((Data (Number (pos 64)) (Global name_g) (Of2 binary.Cons (Of unary.Vi (Number (pos 3))) Nil)) ∷ (Data (Number (pos 64)) (Global name_arr) (Of2 binary.Cons (Of unary.Vi (Number (pos 1))) (Of2 binary.Cons (Of unary.Vi (Number (pos 2))) (Of2 binary.Cons (Of unary.Vi (Number (pos 0))) (Of2 binary.Cons (Of unary.Vi (Number (pos 0))) Nil))))) ∷ (Data (Number (pos 64)) (Global name_x) (Var 1 sort.List)) ∷ (Data (Number (pos 64)) (Global name_l) (Of2 binary.Cons Undef Nil)) ∷ []) }) }) ∷ []) }) (record { is_void = false; name = name_main; params = ([]); vars = []; pre = (record { opened = []; facts = ([]); locals = []; items = ((Data (Number (pos 64)) (Global name_g) (Of2 binary.Cons (Of unary.Vi (Number (pos 3))) Nil)) ∷ (Data (Number (pos 64)) (Global name_arr) (Of2 binary.Cons (Of unary.Vi (Number (pos 1))) (Of2 binary.Cons (Of unary.Vi (Number (pos 2))) (Of2 binary.Cons (Of unary.Vi (Number (pos 0))) (Of2 binary.Cons (Of unary.Vi (Number (pos 0))) Nil))))) ∷ (Data (Number (pos 64)) (Global name_x) (Of2 binary.Cons (Of unary.Vi (Number (pos 3))) Nil)) ∷ (Data (Number (pos 64)) (Global name_l) (Of2 binary.Cons (Of unary.Vi (Number (pos 0))) Nil)) ∷ []) }); post = (record { opened = (sort.List ∷ []); facts = ((Rel relation.Eq (Var 0 sort.Val) (Of unary.Vi (Number (pos 0)))) ∷ []); locals = []; items = ((Data (Number (pos 64)) (Global name_g) (Of2 binary.Cons (Of unary.Vi (Number (pos 3))) Nil)) ∷ (Data (Number (pos 64)) (Global name_arr) (Of2 binary.Cons (Of unary.Vi (Number (pos 1))) (Of2 binary.Cons (Of unary.Vi (Number (pos 2))) (Of2 binary.Cons (Of unary.Vi (Number (pos 0))) (Of2 binary.Cons (Of unary.Vi (Number (pos 0))) Nil))))) ∷ (Data (Number (pos 64)) (Global name_x) (Var 1 sort.List)) ∷ (Data (Number (pos 64)) (Global name_l) (Of2 binary.Cons Undef Nil)) ∷ []) }) }) (record { temps = (name_s ∷ name_t ∷ name_i ∷ name_x1 ∷ name_d0 ∷ name_p1 ∷ name_q1 ∷ []); body = (c.Then (c.Set 0 (c.Const 1)) (c.Then (c.Set 1 (c.Const 2)) (c.Then (c.OnLock lock.Make (c.Address (root.Global name_l 1) c.Here)) (c.Then (c.OnLock lock.Release (c.Address (root.Global name_l 1) c.Here)) (c.Then (c.Set 0 (c.Binary two.Add kind.Signed (c.Const 2) (c.Const 2))) (c.Then (c.Load 0 (root.Global name_arr 4) (c.Index kind.Signed (c.Const 1) c.Here)) (c.Then (c.Set 0 (c.Const 1)) (c.Then (c.OnLock lock.Acquire (c.Address (root.Global name_l 1) c.Here)) (c.Then (c.OnLock lock.Free (c.Address (root.Global name_l 1) c.Here)) (c.Then (c.Return (Some (c.Const 0))) c.End)))))))))) }) (s.Then 1 (s.Law name_vi_wrap ((Number (pos 2)) ∷ (Number (pos 1)) ∷ []) ([])) s.NoBlock (s.Then 2 (s.Set ([]) ([])) s.NoBlock (s.Then 3 (s.Set ([]) ([])) s.NoBlock (s.Then 4 (s.MakeLock 3 (record { name = name_iv; args = ([]) }) ([]) ([])) s.NoBlock (s.Then 5 (s.Fold name_iv 0 ([]) ((Number (pos 3)) ∷ []) ([])) s.NoBlock (s.Then 6 (s.Fold name_iv 0 ([]) ((Number (pos 3)) ∷ []) ([])) s.NoBlock (s.Then 7 (s.Release 3 4 ([])) s.NoBlock (s.Then 8 (s.Set ([]) ([])) s.NoBlock (s.Then 9 (s.Load 1 ([]) ([])) s.NoBlock (s.Then 10 (s.Set ([]) ([])) s.NoBlock (s.Then 11 (s.Acquire 2 ([])) s.NoBlock (s.Then 12 (s.Unfold 4 ((name_k1 ∷ []) ∷ [])) (s.WithBlock (s.Then 13 (s.FreeLock 2 3 ([]) ([])) s.NoBlock (s.Then 14 (s.Return ((Of2 binary.Cons (Of unary.Vi (Named name_k1)) Nil) ∷ []) ([]) ([])) s.NoBlock s.End)) s.NoBlock) s.End)))))))))))) ≡ (RefusedAt 6 21 5)
unfolding computing
random_37 = refl

random_38 : body_verdict (record { predicates = ((record { name = name_iv; args = ([]); cases = ((record { opened = (sort.Int ∷ []); facts = ((Rel relation.Le (Number (pos 0)) (Var 0 sort.Int)) ∷ (Rel relation.Le (Var 0 sort.Int) (Number (pos 50))) ∷ []); locals = []; items = ((Data (Number (pos 64)) (Global name_x) (Of2 binary.Cons (Of unary.Vi (Var 0 sort.Int)) Nil)) ∷ []) }) ∷ []) }) ∷ []); specs = ((record { is_void = false; name = name_main; params = ([]); vars = []; pre = (record { opened = []; facts = ([]); locals = []; items = ((Data (Number (pos 64)) (Global name_g) (Of2 binary.Cons (Of unary.Vi (Number (pos 3))) Nil)) ∷ (Data (Number (pos 64)) (Global name_arr) (Of2 binary.Cons (Of unary.Vi (Number (pos 1))) (Of2 binary.Cons (Of unary.Vi (Number (pos 2))) (Of2 binary.Cons (Of unary.Vi (Number (pos 0))) (Of2 binary.Cons (Of unary.Vi (Number (pos 0))) Nil))))) ∷ (Data (Number (pos 64)) (Global name_x) (Of2 binary.Cons (Of unary.Vi (Number (pos 3))) Nil)) ∷ (Data (Number (pos 64)) (Global name_l) (Of2 binary.Cons (Of unary.Vi (Number (pos 0))) Nil)) ∷ []) }); post = (record { opened = (sort.List ∷ []); facts = ((Rel relation.Eq (Var 0 sort.Val) (Of unary.Vi (Number (pos 0)))) ∷ []); locals = []; items = ((Data (Number (pos 64)) (Global name_g) (Of2 binary.Cons (Of unary.Vi (Number (pos 3))) Nil)) ∷ (Data (Number (pos 64)) (Global name_arr) (Of2 binary.Cons (Of unary.Vi (Number (pos 1))) (Of2 binary.Cons (Of unary.Vi (Number (pos 2))) (Of2 binary.Cons (Of unary.Vi (Number (pos 0))) (Of2 binary.Cons (Of unary.Vi (Number (pos 0))) Nil))))) ∷ (Data (Number (pos 64)) (Global name_x) (Var 1 sort.List)) ∷ (Data (Number (pos 64)) (Global name_l) (Of2 binary.Cons Undef Nil)) ∷ []) }) }) ∷ []) }) (record { is_void = false; name = name_main; params = ([]); vars = []; pre = (record { opened = []; facts = ([]); locals = []; items = ((Data (Number (pos 64)) (Global name_g) (Of2 binary.Cons (Of unary.Vi (Number (pos 3))) Nil)) ∷ (Data (Number (pos 64)) (Global name_arr) (Of2 binary.Cons (Of unary.Vi (Number (pos 1))) (Of2 binary.Cons (Of unary.Vi (Number (pos 2))) (Of2 binary.Cons (Of unary.Vi (Number (pos 0))) (Of2 binary.Cons (Of unary.Vi (Number (pos 0))) Nil))))) ∷ (Data (Number (pos 64)) (Global name_x) (Of2 binary.Cons (Of unary.Vi (Number (pos 3))) Nil)) ∷ (Data (Number (pos 64)) (Global name_l) (Of2 binary.Cons (Of unary.Vi (Number (pos 0))) Nil)) ∷ []) }); post = (record { opened = (sort.List ∷ []); facts = ((Rel relation.Eq (Var 0 sort.Val) (Of unary.Vi (Number (pos 0)))) ∷ []); locals = []; items = ((Data (Number (pos 64)) (Global name_g) (Of2 binary.Cons (Of unary.Vi (Number (pos 3))) Nil)) ∷ (Data (Number (pos 64)) (Global name_arr) (Of2 binary.Cons (Of unary.Vi (Number (pos 1))) (Of2 binary.Cons (Of unary.Vi (Number (pos 2))) (Of2 binary.Cons (Of unary.Vi (Number (pos 0))) (Of2 binary.Cons (Of unary.Vi (Number (pos 0))) Nil))))) ∷ (Data (Number (pos 64)) (Global name_x) (Var 1 sort.List)) ∷ (Data (Number (pos 64)) (Global name_l) (Of2 binary.Cons Undef Nil)) ∷ []) }) }) (record { temps = (name_s ∷ name_t ∷ name_i ∷ name_x1 ∷ name_d0 ∷ name_p1 ∷ name_q1 ∷ []); body = (c.Then (c.Set 0 (c.Const 1)) (c.Then (c.Set 1 (c.Const 2)) (c.Then (c.OnLock lock.Make (c.Address (root.Global name_l 1) c.Here)) (c.Then (c.OnLock lock.Release (c.Address (root.Global name_l 1) c.Here)) (c.Then (c.Set 0 (c.Binary two.Add kind.Signed (c.Const 2) (c.Const 2))) (c.Then (c.Load 0 (root.Global name_arr 4) (c.Index kind.Signed (c.Const 1) c.Here)) (c.Then (c.Set 0 (c.Const 1)) (c.Then (c.OnLock lock.Acquire (c.Address (root.Global name_l 1) c.Here)) (c.Then (c.OnLock lock.Free (c.Address (root.Global name_l 1) c.Here)) (c.Then (c.Return (Some (c.Const 0))) c.End)))))))))) }) (s.Then 1 (s.Law name_vi_wrap ((Number (pos 2)) ∷ (Number (pos 1)) ∷ []) ([])) s.NoBlock (s.Then 2 (s.Set ([]) ([])) s.NoBlock (s.Then 3 (s.Set ([]) ([])) s.NoBlock (s.Then 4 (s.MakeLock 3 (record { name = name_iv; args = ([]) }) ([]) ([])) s.NoBlock (s.Then 5 (s.Fold name_iv 0 ([]) ((Number (pos 3)) ∷ []) ([])) s.NoBlock (s.Then 6 (s.Release 3 4 ([])) s.NoBlock (s.Then 7 (s.Set ([]) ([])) s.NoBlock (s.Then 8 (s.Load 1 ([]) ([])) s.NoBlock (s.Then 9 (s.Set ([]) ([])) s.NoBlock (s.Then 10 (s.Acquire 2 ([])) s.NoBlock (s.Then 11 (s.Break ([]) ([])) s.NoBlock s.End))))))))))) ≡ (RefusedAt 11 7 1)
unfolding computing
random_38 = refl

random_39 : body_verdict (record { predicates = ((record { name = name_iv; args = ([]); cases = ((record { opened = (sort.Int ∷ []); facts = ((Rel relation.Le (Number (pos 0)) (Var 0 sort.Int)) ∷ (Rel relation.Le (Var 0 sort.Int) (Number (pos 50))) ∷ []); locals = []; items = ((Data (Number (pos 64)) (Global name_x) (Of2 binary.Cons (Of unary.Vi (Var 0 sort.Int)) Nil)) ∷ []) }) ∷ []) }) ∷ []); specs = ((record { is_void = false; name = name_main; params = ([]); vars = []; pre = (record { opened = []; facts = ([]); locals = []; items = ((Data (Number (pos 64)) (Global name_g) (Of2 binary.Cons (Of unary.Vi (Number (pos 3))) Nil)) ∷ (Data (Number (pos 64)) (Global name_arr) (Of2 binary.Cons (Of unary.Vi (Number (pos 1))) (Of2 binary.Cons (Of unary.Vi (Number (pos 2))) (Of2 binary.Cons (Of unary.Vi (Number (pos 0))) (Of2 binary.Cons (Of unary.Vi (Number (pos 0))) Nil))))) ∷ (Data (Number (pos 64)) (Global name_x) (Of2 binary.Cons (Of unary.Vi (Number (pos 3))) Nil)) ∷ (Data (Number (pos 64)) (Global name_l) (Of2 binary.Cons (Of unary.Vi (Number (pos 0))) Nil)) ∷ []) }); post = (record { opened = (sort.List ∷ []); facts = ((Rel relation.Eq (Var 0 sort.Val) (Of unary.Vi (Number (pos 0)))) ∷ []); locals = []; items = ((Data (Number (pos 64)) (Global name_g) (Of2 binary.Cons (Of unary.Vi (Number (pos 3))) Nil)) ∷ (Data (Number (pos 64)) (Global name_arr) (Of2 binary.Cons (Of unary.Vi (Number (pos 1))) (Of2 binary.Cons (Of unary.Vi (Number (pos 2))) (Of2 binary.Cons (Of unary.Vi (Number (pos 0))) (Of2 binary.Cons (Of unary.Vi (Number (pos 0))) Nil))))) ∷ (Data (Number (pos 64)) (Global name_x) (Var 1 sort.List)) ∷ (Data (Number (pos 64)) (Global name_l) (Of2 binary.Cons Undef Nil)) ∷ []) }) }) ∷ []) }) (record { is_void = false; name = name_main; params = ([]); vars = []; pre = (record { opened = []; facts = ([]); locals = []; items = ((Data (Number (pos 64)) (Global name_g) (Of2 binary.Cons (Of unary.Vi (Number (pos 3))) Nil)) ∷ (Data (Number (pos 64)) (Global name_arr) (Of2 binary.Cons (Of unary.Vi (Number (pos 1))) (Of2 binary.Cons (Of unary.Vi (Number (pos 2))) (Of2 binary.Cons (Of unary.Vi (Number (pos 0))) (Of2 binary.Cons (Of unary.Vi (Number (pos 0))) Nil))))) ∷ (Data (Number (pos 64)) (Global name_x) (Of2 binary.Cons (Of unary.Vi (Number (pos 3))) Nil)) ∷ (Data (Number (pos 64)) (Global name_l) (Of2 binary.Cons (Of unary.Vi (Number (pos 0))) Nil)) ∷ []) }); post = (record { opened = (sort.List ∷ []); facts = ((Rel relation.Eq (Var 0 sort.Val) (Of unary.Vi (Number (pos 0)))) ∷ []); locals = []; items = ((Data (Number (pos 64)) (Global name_g) (Of2 binary.Cons (Of unary.Vi (Number (pos 3))) Nil)) ∷ (Data (Number (pos 64)) (Global name_arr) (Of2 binary.Cons (Of unary.Vi (Number (pos 1))) (Of2 binary.Cons (Of unary.Vi (Number (pos 2))) (Of2 binary.Cons (Of unary.Vi (Number (pos 0))) (Of2 binary.Cons (Of unary.Vi (Number (pos 0))) Nil))))) ∷ (Data (Number (pos 64)) (Global name_x) (Var 1 sort.List)) ∷ (Data (Number (pos 64)) (Global name_l) (Of2 binary.Cons Undef Nil)) ∷ []) }) }) (record { temps = (name_s ∷ name_t ∷ name_i ∷ name_x1 ∷ name_d0 ∷ name_p1 ∷ name_q1 ∷ []); body = (c.Then (c.Set 0 (c.Const 1)) (c.Then (c.Set 1 (c.Const 2)) (c.Then (c.OnLock lock.Make (c.Address (root.Global name_l 1) c.Here)) (c.Then (c.OnLock lock.Release (c.Address (root.Global name_l 1) c.Here)) (c.Then (c.Set 0 (c.Binary two.Add kind.Signed (c.Const 2) (c.Const 2))) (c.Then (c.Load 0 (root.Global name_arr 4) (c.Index kind.Signed (c.Const 1) c.Here)) (c.Then (c.Set 0 (c.Const 1)) (c.Then (c.OnLock lock.Acquire (c.Address (root.Global name_l 1) c.Here)) (c.Then (c.OnLock lock.Free (c.Address (root.Global name_l 1) c.Here)) (c.Then (c.Return (Some (c.Const 0))) c.End)))))))))) }) (s.Then 1 (s.Law name_vi_wrap ((Number (pos 2)) ∷ (Number (pos 1)) ∷ []) ([])) s.NoBlock (s.Then 2 (s.Set ([]) ([])) s.NoBlock (s.Then 3 (s.Set ([]) ([])) s.NoBlock (s.Then 4 (s.MakeLock 3 (record { name = name_iv; args = ([]) }) ([]) ([])) s.NoBlock (s.Then 5 (s.Fold name_iv 0 ([]) ((Number (pos 3)) ∷ []) ([])) s.NoBlock (s.Then 6 (s.Release 3 4 ([])) s.NoBlock (s.Then 7 (s.Set ([]) ([])) s.NoBlock (s.Then 8 (s.Load 1 ([]) ([])) s.NoBlock (s.Then 9 (s.Set ([]) ([])) s.NoBlock (s.Then 10 (s.Acquire 2 ([])) s.NoBlock (s.Then 11 (s.Unfold 4 (([]) ∷ [])) (s.WithBlock (s.Then 12 (s.Return ((Of2 binary.Cons (Of unary.Vi (Named name_k1)) Nil) ∷ []) ([]) ([])) s.NoBlock s.End) s.NoBlock) s.End))))))))))) ≡ (RefusedAt 11 22 6)
unfolding computing
random_39 = refl

random_40 : body_verdict (record { predicates = ((record { name = name_iv; args = ([]); cases = ((record { opened = (sort.Int ∷ []); facts = ((Rel relation.Le (Number (pos 0)) (Var 0 sort.Int)) ∷ (Rel relation.Le (Var 0 sort.Int) (Number (pos 50))) ∷ []); locals = []; items = ((Data (Number (pos 64)) (Global name_x) (Of2 binary.Cons (Of unary.Vi (Var 0 sort.Int)) Nil)) ∷ []) }) ∷ []) }) ∷ []); specs = ((record { is_void = false; name = name_main; params = ([]); vars = []; pre = (record { opened = []; facts = ([]); locals = []; items = ((Data (Number (pos 64)) (Global name_g) (Of2 binary.Cons (Of unary.Vi (Number (pos 3))) Nil)) ∷ (Data (Number (pos 64)) (Global name_arr) (Of2 binary.Cons (Of unary.Vi (Number (pos 1))) (Of2 binary.Cons (Of unary.Vi (Number (pos 2))) (Of2 binary.Cons (Of unary.Vi (Number (pos 0))) (Of2 binary.Cons (Of unary.Vi (Number (pos 0))) Nil))))) ∷ (Data (Number (pos 64)) (Global name_x) (Of2 binary.Cons (Of unary.Vi (Number (pos 3))) Nil)) ∷ (Data (Number (pos 64)) (Global name_l) (Of2 binary.Cons (Of unary.Vi (Number (pos 0))) Nil)) ∷ []) }); post = (record { opened = (sort.List ∷ []); facts = ((Rel relation.Eq (Var 0 sort.Val) (Of unary.Vi (Number (pos 0)))) ∷ []); locals = []; items = ((Data (Number (pos 64)) (Global name_g) (Of2 binary.Cons (Of unary.Vi (Number (pos 3))) Nil)) ∷ (Data (Number (pos 64)) (Global name_arr) (Of2 binary.Cons (Of unary.Vi (Number (pos 1))) (Of2 binary.Cons (Of unary.Vi (Number (pos 2))) (Of2 binary.Cons (Of unary.Vi (Number (pos 0))) (Of2 binary.Cons (Of unary.Vi (Number (pos 0))) Nil))))) ∷ (Data (Number (pos 64)) (Global name_x) (Var 1 sort.List)) ∷ (Data (Number (pos 64)) (Global name_l) (Of2 binary.Cons Undef Nil)) ∷ []) }) }) ∷ []) }) (record { is_void = false; name = name_main; params = ([]); vars = []; pre = (record { opened = []; facts = ([]); locals = []; items = ((Data (Number (pos 64)) (Global name_g) (Of2 binary.Cons (Of unary.Vi (Number (pos 3))) Nil)) ∷ (Data (Number (pos 64)) (Global name_arr) (Of2 binary.Cons (Of unary.Vi (Number (pos 1))) (Of2 binary.Cons (Of unary.Vi (Number (pos 2))) (Of2 binary.Cons (Of unary.Vi (Number (pos 0))) (Of2 binary.Cons (Of unary.Vi (Number (pos 0))) Nil))))) ∷ (Data (Number (pos 64)) (Global name_x) (Of2 binary.Cons (Of unary.Vi (Number (pos 3))) Nil)) ∷ (Data (Number (pos 64)) (Global name_l) (Of2 binary.Cons (Of unary.Vi (Number (pos 0))) Nil)) ∷ []) }); post = (record { opened = (sort.List ∷ []); facts = ((Rel relation.Eq (Var 0 sort.Val) (Of unary.Vi (Number (pos 0)))) ∷ []); locals = []; items = ((Data (Number (pos 64)) (Global name_g) (Of2 binary.Cons (Of unary.Vi (Number (pos 3))) Nil)) ∷ (Data (Number (pos 64)) (Global name_arr) (Of2 binary.Cons (Of unary.Vi (Number (pos 1))) (Of2 binary.Cons (Of unary.Vi (Number (pos 2))) (Of2 binary.Cons (Of unary.Vi (Number (pos 0))) (Of2 binary.Cons (Of unary.Vi (Number (pos 0))) Nil))))) ∷ (Data (Number (pos 64)) (Global name_x) (Var 1 sort.List)) ∷ (Data (Number (pos 64)) (Global name_l) (Of2 binary.Cons Undef Nil)) ∷ []) }) }) (record { temps = (name_s ∷ name_t ∷ name_i ∷ name_x1 ∷ name_d0 ∷ name_p1 ∷ name_q1 ∷ []); body = (c.Then (c.Set 0 (c.Const 1)) (c.Then (c.Set 1 (c.Const 2)) (c.Then (c.OnLock lock.Make (c.Address (root.Global name_l 1) c.Here)) (c.Then (c.OnLock lock.Release (c.Address (root.Global name_l 1) c.Here)) (c.Then (c.Set 0 (c.Binary two.Add kind.Signed (c.Const 2) (c.Const 2))) (c.Then (c.Load 0 (root.Global name_arr 4) (c.Index kind.Signed (c.Const 1) c.Here)) (c.Then (c.Set 0 (c.Const 1)) (c.Then (c.OnLock lock.Acquire (c.Address (root.Global name_l 1) c.Here)) (c.Then (c.OnLock lock.Free (c.Address (root.Global name_l 1) c.Here)) (c.Then (c.Return (Some (c.Const 0))) c.End)))))))))) }) (s.Then 1 (s.Law name_vi_wrap ((Number (pos 2)) ∷ (Number (pos 1)) ∷ []) ([])) s.NoBlock (s.Then 2 (s.Set ([]) ([])) s.NoBlock (s.Then 3 (s.Set ([]) ([])) s.NoBlock (s.Then 4 (s.MakeLock 3 (record { name = name_iv; args = ([]) }) ([]) ([])) s.NoBlock (s.Then 5 (s.Fold name_vi_wrap 0 ([]) ((Number (pos 3)) ∷ []) ([])) s.NoBlock (s.Then 6 (s.Release 3 4 ([])) s.NoBlock (s.Then 7 (s.Set ([]) ([])) s.NoBlock (s.Then 8 (s.Load 1 ([]) ([])) s.NoBlock (s.Then 9 (s.Set ([]) ([])) s.NoBlock (s.Then 10 (s.Acquire 2 ([])) s.NoBlock (s.Then 11 (s.Unfold 4 ((name_k1 ∷ []) ∷ [])) (s.WithBlock (s.Then 12 (s.FreeLock 2 3 ([]) ([])) s.NoBlock (s.Then 13 (s.Return ((Of2 binary.Cons (Of unary.Vi (Named name_k1)) Nil) ∷ []) ([]) ([])) s.NoBlock s.End)) s.NoBlock) s.End))))))))))) ≡ (RefusedAt 5 21 7)
unfolding computing
random_40 = refl

random_41 : body_verdict (record { predicates = ([]); specs = ((record { is_void = true; name = name_f; params = ([]); vars = []; pre = (record { opened = []; facts = ([]); locals = []; items = ([]) }); post = (record { opened = []; facts = ([]); locals = []; items = ([]) }) }) ∷ (record { is_void = false; name = name_main; params = ([]); vars = []; pre = (record { opened = []; facts = ([]); locals = []; items = ([]) }); post = (record { opened = []; facts = ((Rel relation.Eq (Var 0 sort.Val) (Of unary.Vi (Number (pos 0)))) ∷ []); locals = []; items = ([]) }) }) ∷ []) }) (record { is_void = true; name = name_f; params = ([]); vars = []; pre = (record { opened = []; facts = ([]); locals = []; items = ([]) }); post = (record { opened = []; facts = ([]); locals = []; items = ([]) }) }) (record { temps = (name_s ∷ name_t ∷ name_i ∷ name_x1 ∷ name_d0 ∷ name_p1 ∷ name_q1 ∷ []); body = (c.Then (c.Set 0 (c.Const 0)) (c.Then (c.Set 1 (c.Const 0)) (c.Then (c.Set 0 (c.Binary two.Sub kind.Signed (c.Temp 1) (c.Temp 1))) (c.Then (c.Return None) c.End)))) }) (s.Then 1 (s.Set ([]) ([])) s.NoBlock (s.Then 2 (s.Set ([]) ([])) s.NoBlock (s.Then 3 (s.Set ([]) ([])) s.NoBlock (s.Then 4 (s.Return ([]) ([]) ([])) s.NoBlock s.End)))) ≡ Accepted
unfolding computing
random_41 = refl

random_42 : body_verdict (record { predicates = ([]); specs = ((record { is_void = true; name = name_f; params = ([]); vars = []; pre = (record { opened = []; facts = ([]); locals = []; items = ([]) }); post = (record { opened = []; facts = ([]); locals = []; items = ([]) }) }) ∷ (record { is_void = false; name = name_main; params = ([]); vars = []; pre = (record { opened = []; facts = ([]); locals = []; items = ([]) }); post = (record { opened = []; facts = ((Rel relation.Eq (Var 0 sort.Val) (Of unary.Vi (Number (pos 0)))) ∷ []); locals = []; items = ([]) }) }) ∷ []) }) (record { is_void = false; name = name_main; params = ([]); vars = []; pre = (record { opened = []; facts = ([]); locals = []; items = ([]) }); post = (record { opened = []; facts = ((Rel relation.Eq (Var 0 sort.Val) (Of unary.Vi (Number (pos 0)))) ∷ []); locals = []; items = ([]) }) }) (record { temps = ([]); body = (c.Then (c.Return (Some (c.Const 0))) c.End) }) (s.Then 1 (s.Return ([]) ([]) ([])) s.NoBlock s.End) ≡ Accepted
unfolding computing
random_42 = refl

random_43 : body_verdict (record { predicates = ([]); specs = ((record { is_void = true; name = name_f; params = ([]); vars = []; pre = (record { opened = []; facts = ([]); locals = []; items = ([]) }); post = (record { opened = []; facts = ([]); locals = []; items = ([]) }) }) ∷ (record { is_void = false; name = name_main; params = ([]); vars = []; pre = (record { opened = []; facts = ([]); locals = []; items = ([]) }); post = (record { opened = []; facts = ((Rel relation.Eq (Var 0 sort.Val) (Of unary.Vi (Number (pos 0)))) ∷ []); locals = []; items = ([]) }) }) ∷ []) }) (record { is_void = true; name = name_f; params = ([]); vars = []; pre = (record { opened = []; facts = ([]); locals = []; items = ([]) }); post = (record { opened = []; facts = ([]); locals = []; items = ([]) }) }) (record { temps = (name_s ∷ name_t ∷ name_i ∷ name_x1 ∷ name_d0 ∷ name_p1 ∷ name_q1 ∷ []); body = (c.Then (c.Set 0 (c.Const 0)) (c.Then (c.Set 1 (c.Const 0)) (c.Then (c.Set 0 (c.Binary two.Sub kind.Signed (c.Temp 1) (c.Temp 1))) (c.Then (c.Return None) c.End)))) }) (s.Then 1 (s.Set ([]) ([])) s.NoBlock (s.Then 2 (s.Set ([]) ([])) s.NoBlock (s.Then 3 (s.Set ([]) ([])) s.NoBlock (s.Then 4 (s.Set ([]) ([])) s.NoBlock (s.Then 5 (s.Return ([]) ([]) ([])) s.NoBlock s.End))))) ≡ (RefusedAt 4 2 1)
unfolding computing
random_43 = refl

random_44 : body_verdict (record { predicates = ([]); specs = ((record { is_void = true; name = name_f; params = ([]); vars = []; pre = (record { opened = []; facts = ([]); locals = []; items = ([]) }); post = (record { opened = []; facts = ([]); locals = []; items = ([]) }) }) ∷ (record { is_void = false; name = name_main; params = ([]); vars = []; pre = (record { opened = []; facts = ([]); locals = []; items = ([]) }); post = (record { opened = []; facts = ((Rel relation.Eq (Var 0 sort.Val) (Of unary.Vi (Number (pos 0)))) ∷ []); locals = []; items = ([]) }) }) ∷ []) }) (record { is_void = true; name = name_f; params = ([]); vars = []; pre = (record { opened = []; facts = ([]); locals = []; items = ([]) }); post = (record { opened = []; facts = ([]); locals = []; items = ([]) }) }) (record { temps = (name_s ∷ name_t ∷ name_i ∷ name_x1 ∷ name_d0 ∷ name_p1 ∷ name_q1 ∷ []); body = (c.Then (c.Set 0 (c.Const 0)) (c.Then (c.Set 1 (c.Const 0)) (c.Then (c.Set 0 (c.Binary two.Sub kind.Signed (c.Temp 1) (c.Temp 1))) (c.Then (c.Return None) c.End)))) }) (s.Then 1 (s.Set ([]) ([])) s.NoBlock (s.Then 2 (s.Set ([]) ([])) s.NoBlock (s.Then 3 (s.Glue 0 1) s.NoBlock (s.Then 4 (s.Set ([]) ([])) s.NoBlock (s.Then 5 (s.Return ([]) ([]) ([])) s.NoBlock s.End))))) ≡ (RefusedAt 3 30 1)
unfolding computing
random_44 = refl

random_45 : body_verdict (record { predicates = ([]); specs = ((record { is_void = true; name = name_f; params = ([]); vars = []; pre = (record { opened = []; facts = ([]); locals = []; items = ([]) }); post = (record { opened = []; facts = ([]); locals = []; items = ([]) }) }) ∷ (record { is_void = false; name = name_main; params = ([]); vars = []; pre = (record { opened = []; facts = ([]); locals = []; items = ([]) }); post = (record { opened = []; facts = ((Rel relation.Eq (Var 0 sort.Val) (Of unary.Vi (Number (pos 0)))) ∷ []); locals = []; items = ([]) }) }) ∷ []) }) (record { is_void = true; name = name_f; params = ([]); vars = []; pre = (record { opened = []; facts = ([]); locals = []; items = ([]) }); post = (record { opened = []; facts = ([]); locals = []; items = ([]) }) }) (record { temps = (name_s ∷ name_t ∷ name_i ∷ name_x1 ∷ name_d0 ∷ name_p1 ∷ name_q1 ∷ []); body = (c.Then (c.Set 0 (c.Const 0)) (c.Then (c.Set 1 (c.Const 0)) (c.Then (c.Set 0 (c.Binary two.Sub kind.Signed (c.Temp 1) (c.Temp 1))) (c.Then (c.Return None) c.End)))) }) (s.Then 1 (s.Set ([]) ([])) s.NoBlock (s.Then 2 (s.Set ([]) ([])) s.NoBlock (s.Then 3 (s.Set ([]) ([])) s.NoBlock s.End))) ≡ (RefusedAt 4 0 10)
unfolding computing
random_45 = refl

random_46 : body_verdict (record { predicates = ([]); specs = ((record { is_void = true; name = name_f; params = ([]); vars = []; pre = (record { opened = []; facts = ([]); locals = []; items = ([]) }); post = (record { opened = []; facts = ([]); locals = []; items = ([]) }) }) ∷ (record { is_void = false; name = name_main; params = ([]); vars = []; pre = (record { opened = []; facts = ([]); locals = []; items = ([]) }); post = (record { opened = []; facts = ((Rel relation.Eq (Var 0 sort.Val) (Of unary.Vi (Number (pos 0)))) ∷ []); locals = []; items = ([]) }) }) ∷ []) }) (record { is_void = true; name = name_f; params = ([]); vars = []; pre = (record { opened = []; facts = ([]); locals = []; items = ([]) }); post = (record { opened = []; facts = ([]); locals = []; items = ([]) }) }) (record { temps = (name_s ∷ name_t ∷ name_i ∷ name_x1 ∷ name_d0 ∷ name_p1 ∷ name_q1 ∷ []); body = (c.Then (c.Set 0 (c.Const 0)) (c.Then (c.Set 1 (c.Const 0)) (c.Then (c.Set 0 (c.Binary two.Sub kind.Signed (c.Temp 1) (c.Temp 1))) (c.Then (c.Return None) c.End)))) }) (s.Then 1 (s.Set ([]) ([])) s.NoBlock (s.Then 2 (s.Set ([]) ([])) s.NoBlock (s.Then 3 (s.Set ([]) ([])) s.NoBlock (s.Then 4 (s.Continue ([]) ([])) s.NoBlock s.End)))) ≡ (RefusedAt 4 8 1)
unfolding computing
random_46 = refl

random_47 : body_verdict (record { predicates = ([]); specs = ((record { is_void = true; name = name_f; params = ([]); vars = []; pre = (record { opened = []; facts = ([]); locals = []; items = ([]) }); post = (record { opened = []; facts = ([]); locals = []; items = ([]) }) }) ∷ (record { is_void = false; name = name_main; params = ([]); vars = []; pre = (record { opened = []; facts = ([]); locals = []; items = ([]) }); post = (record { opened = []; facts = ((Rel relation.Eq (Var 0 sort.Val) (Of unary.Vi (Number (pos 0)))) ∷ []); locals = []; items = ([]) }) }) ∷ []) }) (record { is_void = true; name = name_f; params = ([]); vars = []; pre = (record { opened = []; facts = ([]); locals = []; items = ([]) }); post = (record { opened = []; facts = ([]); locals = []; items = ([]) }) }) (record { temps = (name_s ∷ name_t ∷ name_i ∷ name_x1 ∷ name_d0 ∷ name_p1 ∷ name_q1 ∷ []); body = (c.Then (c.Set 0 (c.Const 0)) (c.Then (c.Set 1 (c.Const 0)) (c.Then (c.Set 0 (c.Binary two.Sub kind.Signed (c.Temp 1) (c.Temp 1))) (c.Then (c.Return None) c.End)))) }) (s.Then 1 (s.Set ([]) ([])) s.NoBlock (s.Then 2 (s.Set ([]) ([])) s.NoBlock (s.Then 3 (s.Return ([]) ([]) ([])) s.NoBlock s.End))) ≡ (RefusedAt 3 9 1)
unfolding computing
random_47 = refl

random_48 : body_verdict (record { predicates = ([]); specs = ((record { is_void = true; name = name_f; params = ([]); vars = []; pre = (record { opened = []; facts = ([]); locals = []; items = ([]) }); post = (record { opened = []; facts = ([]); locals = []; items = ([]) }) }) ∷ (record { is_void = false; name = name_main; params = ([]); vars = []; pre = (record { opened = []; facts = ([]); locals = []; items = ([]) }); post = (record { opened = []; facts = ((Rel relation.Eq (Var 0 sort.Val) (Of unary.Vi (Number (pos 0)))) ∷ []); locals = []; items = ([]) }) }) ∷ []) }) (record { is_void = true; name = name_f; params = ([]); vars = []; pre = (record { opened = []; facts = ([]); locals = []; items = ([]) }); post = (record { opened = []; facts = ([]); locals = []; items = ([]) }) }) (record { temps = (name_s ∷ name_t ∷ name_i ∷ name_x1 ∷ name_d0 ∷ name_p1 ∷ name_q1 ∷ []); body = (c.Then (c.Set 0 (c.Const 0)) (c.Then (c.Set 1 (c.Const 0)) (c.Then (c.Set 0 (c.Binary two.Sub kind.Signed (c.Temp 1) (c.Temp 1))) (c.Then (c.Return None) c.End)))) }) (s.Then 1 (s.Set ([]) ([])) s.NoBlock (s.Then 2 (s.Set ([]) ([])) s.NoBlock (s.Then 3 (s.Absurd ([])) s.NoBlock (s.Then 4 (s.Return ([]) ([]) ([])) s.NoBlock s.End)))) ≡ (RefusedAt 3 24 3)
unfolding computing
random_48 = refl

random_49 : body_verdict (record { predicates = ((record { name = name_iv; args = ([]); cases = ((record { opened = (sort.Int ∷ []); facts = ((Rel relation.Le (Number (pos 0)) (Var 0 sort.Int)) ∷ (Rel relation.Le (Var 0 sort.Int) (Number (pos 50))) ∷ []); locals = []; items = ((Data (Number (pos 64)) (Global name_x) (Of2 binary.Cons (Of unary.Vi (Var 0 sort.Int)) Nil)) ∷ []) }) ∷ []) }) ∷ []); specs = ((record { is_void = false; name = name_main; params = ([]); vars = []; pre = (record { opened = []; facts = ([]); locals = []; items = ((Data (Number (pos 64)) (Global name_x) (Of2 binary.Cons (Of unary.Vi (Number (pos 3))) Nil)) ∷ (Data (Number (pos 64)) (Global name_l) (Of2 binary.Cons (Of unary.Vi (Number (pos 0))) Nil)) ∷ []) }); post = (record { opened = []; facts = ((Rel relation.Eq (Var 0 sort.Val) (Of unary.Vi (Number (pos 7)))) ∷ []); locals = []; items = ((Pred (record { name = name_iv; args = ([]) })) ∷ (Data (Number (pos 64)) (Global name_l) (Of2 binary.Cons Undef Nil)) ∷ []) }) }) ∷ []) }) (record { is_void = false; name = name_main; params = ([]); vars = []; pre = (record { opened = []; facts = ([]); locals = []; items = ((Data (Number (pos 64)) (Global name_x) (Of2 binary.Cons (Of unary.Vi (Number (pos 3))) Nil)) ∷ (Data (Number (pos 64)) (Global name_l) (Of2 binary.Cons (Of unary.Vi (Number (pos 0))) Nil)) ∷ []) }); post = (record { opened = []; facts = ((Rel relation.Eq (Var 0 sort.Val) (Of unary.Vi (Number (pos 7)))) ∷ []); locals = []; items = ((Pred (record { name = name_iv; args = ([]) })) ∷ (Data (Number (pos 64)) (Global name_l) (Of2 binary.Cons Undef Nil)) ∷ []) }) }) (record { temps = (name_s ∷ name_t ∷ name_i ∷ name_x1 ∷ name_d0 ∷ name_p1 ∷ name_q1 ∷ []); body = (c.Then (c.Set 0 (c.Const 2)) (c.Then (c.Set 1 (c.Const 2)) (c.Then (c.OnLock lock.Make (c.Address (root.Global name_l 1) c.Here)) (c.Then (c.OnLock lock.Release (c.Address (root.Global name_l 1) c.Here)) (c.Then (c.Set 1 (c.Temp 1)) (c.Then (c.Set 0 (c.Binary two.Add kind.Signed (c.Const 3) (c.Const 2))) (c.Then (c.OnLock lock.Acquire (c.Address (root.Global name_l 1) c.Here)) (c.Then (c.Store (root.Global name_x 1) c.Here (c.Const 4)) (c.Then (c.OnLock lock.Release (c.Address (root.Global name_l 1) c.Here)) (c.Then (c.OnLock lock.Acquire (c.Address (root.Global name_l 1) c.Here)) (c.Then (c.OnLock lock.Free (c.Address (root.Global name_l 1) c.Here)) (c.Then (c.Return (Some (c.Const 7))) c.End)))))))))))) }) (s.Then 1 (s.Set ([]) ([])) s.NoBlock (s.Then 2 (s.Set ([]) ([])) s.NoBlock (s.Then 3 (s.MakeLock 1 (record { name = name_iv; args = ([]) }) ([]) ([])) s.NoBlock (s.Then 4 (s.Fold name_iv 0 ([]) ((Number (pos 3)) ∷ []) ([])) s.NoBlock (s.Then 5 (s.Release 1 2 ([])) s.NoBlock (s.Then 6 (s.Set ([]) ([])) s.NoBlock (s.Then 7 (s.Set ([]) ([])) s.NoBlock (s.Then 8 (s.Acquire 0 ([])) s.NoBlock (s.Then 9 (s.Unfold 2 ((name_k1 ∷ []) ∷ [])) (s.WithBlock (s.Then 10 (s.Store 2 ([]) ([])) s.NoBlock (s.Then 11 (s.Fold name_iv 0 ([]) ((Number (pos 4)) ∷ []) ([])) s.NoBlock (s.Then 12 (s.Release 1 2 ([])) s.NoBlock (s.Then 13 (s.Acquire 0 ([])) s.NoBlock (s.Then 14 (s.FreeLock 0 1 ([]) ([])) s.NoBlock (s.Then 15 (s.Return ([]) ([]) ([])) s.NoBlock s.End)))))) s.NoBlock) s.End))))))))) ≡ Accepted
unfolding computing
random_49 = refl

random_50 : body_verdict (record { predicates = ((record { name = name_iv; args = ([]); cases = ((record { opened = (sort.Int ∷ []); facts = ((Rel relation.Le (Number (pos 0)) (Var 0 sort.Int)) ∷ (Rel relation.Le (Var 0 sort.Int) (Number (pos 50))) ∷ []); locals = []; items = ((Data (Number (pos 64)) (Global name_x) (Of2 binary.Cons (Of unary.Vi (Var 0 sort.Int)) Nil)) ∷ []) }) ∷ []) }) ∷ []); specs = ((record { is_void = false; name = name_main; params = ([]); vars = []; pre = (record { opened = []; facts = ([]); locals = []; items = ((Data (Number (pos 64)) (Global name_x) (Of2 binary.Cons (Of unary.Vi (Number (pos 3))) Nil)) ∷ (Data (Number (pos 64)) (Global name_l) (Of2 binary.Cons (Of unary.Vi (Number (pos 0))) Nil)) ∷ []) }); post = (record { opened = []; facts = ((Rel relation.Eq (Var 0 sort.Val) (Of unary.Vi (Number (pos 7)))) ∷ []); locals = []; items = ((Pred (record { name = name_iv; args = ([]) })) ∷ (Data (Number (pos 64)) (Global name_l) (Of2 binary.Cons Undef Nil)) ∷ []) }) }) ∷ []) }) (record { is_void = false; name = name_main; params = ([]); vars = []; pre = (record { opened = []; facts = ([]); locals = []; items = ((Data (Number (pos 64)) (Global name_x) (Of2 binary.Cons (Of unary.Vi (Number (pos 3))) Nil)) ∷ (Data (Number (pos 64)) (Global name_l) (Of2 binary.Cons (Of unary.Vi (Number (pos 0))) Nil)) ∷ []) }); post = (record { opened = []; facts = ((Rel relation.Eq (Var 0 sort.Val) (Of unary.Vi (Number (pos 7)))) ∷ []); locals = []; items = ((Pred (record { name = name_iv; args = ([]) })) ∷ (Data (Number (pos 64)) (Global name_l) (Of2 binary.Cons Undef Nil)) ∷ []) }) }) (record { temps = (name_s ∷ name_t ∷ name_i ∷ name_x1 ∷ name_d0 ∷ name_p1 ∷ name_q1 ∷ []); body = (c.Then (c.Set 0 (c.Const 2)) (c.Then (c.Set 1 (c.Const 2)) (c.Then (c.OnLock lock.Make (c.Address (root.Global name_l 1) c.Here)) (c.Then (c.OnLock lock.Release (c.Address (root.Global name_l 1) c.Here)) (c.Then (c.Set 1 (c.Temp 1)) (c.Then (c.Set 0 (c.Binary two.Add kind.Signed (c.Const 3) (c.Const 2))) (c.Then (c.OnLock lock.Acquire (c.Address (root.Global name_l 1) c.Here)) (c.Then (c.Store (root.Global name_x 1) c.Here (c.Const 4)) (c.Then (c.OnLock lock.Release (c.Address (root.Global name_l 1) c.Here)) (c.Then (c.OnLock lock.Acquire (c.Address (root.Global name_l 1) c.Here)) (c.Then (c.OnLock lock.Free (c.Address (root.Global name_l 1) c.Here)) (c.Then (c.Return (Some (c.Const 7))) c.End)))))))))))) }) (s.Then 1 (s.Set ([]) ([])) s.NoBlock (s.Then 2 (s.Set ([]) ([])) s.NoBlock (s.Then 3 (s.MakeLock 1 (record { name = name_iv; args = ([]) }) ([]) ([])) s.NoBlock (s.Then 4 (s.Fold name_iv 0 ([]) ((Number (pos 3)) ∷ []) ([])) s.NoBlock (s.Then 5 (s.Release 1 2 ([])) s.NoBlock (s.Then 6 (s.Set ([]) ([])) s.NoBlock (s.Then 7 (s.Set ([]) ([])) s.NoBlock (s.Then 8 (s.Acquire 0 ([])) s.NoBlock (s.Then 9 (s.Unfold 2 ((name_k1 ∷ []) ∷ [])) (s.WithBlock (s.Then 10 (s.Store 2 ([]) ([])) s.NoBlock (s.Then 11 (s.Fold name_iv 0 ([]) ((Number (pos 4)) ∷ []) ([])) s.NoBlock (s.Then 12 (s.Release 1 2 ([])) s.NoBlock (s.Then 13 (s.Acquire 0 ([])) s.NoBlock (s.Then 14 (s.FreeLock 0 1 ([]) ([])) s.NoBlock (s.Then 15 (s.Call ([]) ([]) ([]) ([])) s.NoBlock (s.Then 16 (s.Return ([]) ([]) ([])) s.NoBlock s.End))))))) s.NoBlock) s.End))))))))) ≡ (RefusedAt 15 13 1)
unfolding computing
random_50 = refl

random_51 : body_verdict (record { predicates = ((record { name = name_iv; args = ([]); cases = ((record { opened = (sort.Int ∷ []); facts = ((Rel relation.Le (Number (pos 0)) (Var 0 sort.Int)) ∷ (Rel relation.Le (Var 0 sort.Int) (Number (pos 50))) ∷ []); locals = []; items = ((Data (Number (pos 64)) (Global name_x) (Of2 binary.Cons (Of unary.Vi (Var 0 sort.Int)) Nil)) ∷ []) }) ∷ []) }) ∷ []); specs = ((record { is_void = false; name = name_main; params = ([]); vars = []; pre = (record { opened = []; facts = ([]); locals = []; items = ((Data (Number (pos 64)) (Global name_x) (Of2 binary.Cons (Of unary.Vi (Number (pos 3))) Nil)) ∷ (Data (Number (pos 64)) (Global name_l) (Of2 binary.Cons (Of unary.Vi (Number (pos 0))) Nil)) ∷ []) }); post = (record { opened = []; facts = ((Rel relation.Eq (Var 0 sort.Val) (Of unary.Vi (Number (pos 7)))) ∷ []); locals = []; items = ((Pred (record { name = name_iv; args = ([]) })) ∷ (Data (Number (pos 64)) (Global name_l) (Of2 binary.Cons Undef Nil)) ∷ []) }) }) ∷ []) }) (record { is_void = false; name = name_main; params = ([]); vars = []; pre = (record { opened = []; facts = ([]); locals = []; items = ((Data (Number (pos 64)) (Global name_x) (Of2 binary.Cons (Of unary.Vi (Number (pos 3))) Nil)) ∷ (Data (Number (pos 64)) (Global name_l) (Of2 binary.Cons (Of unary.Vi (Number (pos 0))) Nil)) ∷ []) }); post = (record { opened = []; facts = ((Rel relation.Eq (Var 0 sort.Val) (Of unary.Vi (Number (pos 7)))) ∷ []); locals = []; items = ((Pred (record { name = name_iv; args = ([]) })) ∷ (Data (Number (pos 64)) (Global name_l) (Of2 binary.Cons Undef Nil)) ∷ []) }) }) (record { temps = (name_s ∷ name_t ∷ name_i ∷ name_x1 ∷ name_d0 ∷ name_p1 ∷ name_q1 ∷ []); body = (c.Then (c.Set 0 (c.Const 2)) (c.Then (c.Set 1 (c.Const 2)) (c.Then (c.OnLock lock.Make (c.Address (root.Global name_l 1) c.Here)) (c.Then (c.OnLock lock.Release (c.Address (root.Global name_l 1) c.Here)) (c.Then (c.Set 1 (c.Temp 1)) (c.Then (c.Set 0 (c.Binary two.Add kind.Signed (c.Const 3) (c.Const 2))) (c.Then (c.OnLock lock.Acquire (c.Address (root.Global name_l 1) c.Here)) (c.Then (c.Store (root.Global name_x 1) c.Here (c.Const 4)) (c.Then (c.OnLock lock.Release (c.Address (root.Global name_l 1) c.Here)) (c.Then (c.OnLock lock.Acquire (c.Address (root.Global name_l 1) c.Here)) (c.Then (c.OnLock lock.Free (c.Address (root.Global name_l 1) c.Here)) (c.Then (c.Return (Some (c.Const 7))) c.End)))))))))))) }) (s.Then 1 (s.Set ([]) ([])) s.NoBlock (s.Then 2 (s.Set ([]) ([])) s.NoBlock (s.Then 3 (s.MakeLock 1 (record { name = name_iv; args = ([]) }) ([]) ([])) s.NoBlock (s.Then 4 (s.Fold name_iv 0 ([]) ((Number (pos 3)) ∷ []) ([])) s.NoBlock (s.Then 5 (s.Release 1 2 ([])) s.NoBlock (s.Then 6 (s.Set ([]) ([])) s.NoBlock (s.Then 7 (s.Set ([]) ([])) s.NoBlock (s.Then 8 (s.Acquire 0 ([])) s.NoBlock (s.Then 9 (s.Unfold 2 ((name_k1 ∷ []) ∷ [])) (s.WithBlock (s.Then 10 (s.Store 2 ([]) ([])) s.NoBlock (s.Then 11 (s.Naming name_a0 (Number (pos 1))) s.NoBlock (s.Then 12 (s.Release 1 2 ([])) s.NoBlock (s.Then 13 (s.Acquire 0 ([])) s.NoBlock (s.Then 14 (s.FreeLock 0 1 ([]) ([])) s.NoBlock (s.Then 15 (s.Return ([]) ([]) ([])) s.NoBlock (s.Then 16 (s.Return ([]) ([]) ([])) s.NoBlock s.End))))))) s.NoBlock) s.End))))))))) ≡ (RefusedAt 12 18 1)
unfolding computing
random_51 = refl

random_52 : body_verdict (record { predicates = ((record { name = name_iv; args = ([]); cases = ((record { opened = (sort.Int ∷ []); facts = ((Rel relation.Le (Number (pos 0)) (Var 0 sort.Int)) ∷ (Rel relation.Le (Var 0 sort.Int) (Number (pos 50))) ∷ []); locals = []; items = ((Data (Number (pos 64)) (Global name_x) (Of2 binary.Cons (Of unary.Vi (Var 0 sort.Int)) Nil)) ∷ []) }) ∷ []) }) ∷ []); specs = ((record { is_void = false; name = name_main; params = ([]); vars = []; pre = (record { opened = []; facts = ([]); locals = []; items = ((Data (Number (pos 64)) (Global name_x) (Of2 binary.Cons (Of unary.Vi (Number (pos 3))) Nil)) ∷ (Data (Number (pos 64)) (Global name_l) (Of2 binary.Cons (Of unary.Vi (Number (pos 0))) Nil)) ∷ []) }); post = (record { opened = []; facts = ((Rel relation.Eq (Var 0 sort.Val) (Of unary.Vi (Number (pos 7)))) ∷ []); locals = []; items = ((Pred (record { name = name_iv; args = ([]) })) ∷ (Data (Number (pos 64)) (Global name_l) (Of2 binary.Cons Undef Nil)) ∷ []) }) }) ∷ []) }) (record { is_void = false; name = name_main; params = ([]); vars = []; pre = (record { opened = []; facts = ([]); locals = []; items = ((Data (Number (pos 64)) (Global name_x) (Of2 binary.Cons (Of unary.Vi (Number (pos 3))) Nil)) ∷ (Data (Number (pos 64)) (Global name_l) (Of2 binary.Cons (Of unary.Vi (Number (pos 0))) Nil)) ∷ []) }); post = (record { opened = []; facts = ((Rel relation.Eq (Var 0 sort.Val) (Of unary.Vi (Number (pos 7)))) ∷ []); locals = []; items = ((Pred (record { name = name_iv; args = ([]) })) ∷ (Data (Number (pos 64)) (Global name_l) (Of2 binary.Cons Undef Nil)) ∷ []) }) }) (record { temps = (name_s ∷ name_t ∷ name_i ∷ name_x1 ∷ name_d0 ∷ name_p1 ∷ name_q1 ∷ []); body = (c.Then (c.Set 0 (c.Const 2)) (c.Then (c.Set 1 (c.Const 2)) (c.Then (c.OnLock lock.Make (c.Address (root.Global name_l 1) c.Here)) (c.Then (c.OnLock lock.Release (c.Address (root.Global name_l 1) c.Here)) (c.Then (c.Set 1 (c.Temp 1)) (c.Then (c.Set 0 (c.Binary two.Add kind.Signed (c.Const 3) (c.Const 2))) (c.Then (c.OnLock lock.Acquire (c.Address (root.Global name_l 1) c.Here)) (c.Then (c.Store (root.Global name_x 1) c.Here (c.Const 4)) (c.Then (c.OnLock lock.Release (c.Address (root.Global name_l 1) c.Here)) (c.Then (c.OnLock lock.Acquire (c.Address (root.Global name_l 1) c.Here)) (c.Then (c.OnLock lock.Free (c.Address (root.Global name_l 1) c.Here)) (c.Then (c.Return (Some (c.Const 7))) c.End)))))))))))) }) (s.Then 1 (s.Set ([]) ([])) s.NoBlock (s.Then 2 (s.Set ([]) ([])) s.NoBlock (s.Then 3 (s.MakeLock 1 (record { name = name_iv; args = ([]) }) ([]) ([])) s.NoBlock (s.Then 4 (s.Fold name_iv 0 ([]) ((Number (pos 64)) ∷ []) ([])) s.NoBlock (s.Then 5 (s.Release 1 2 ([])) s.NoBlock (s.Then 6 (s.Set ([]) ([])) s.NoBlock (s.Then 7 (s.Set ([]) ([])) s.NoBlock (s.Then 8 (s.Acquire 0 ([])) s.NoBlock (s.Then 9 (s.Unfold 2 ((name_k1 ∷ []) ∷ [])) (s.WithBlock (s.Then 10 (s.Store 2 ([]) ([])) s.NoBlock (s.Then 11 (s.Fold name_iv 0 ([]) ((Number (pos 4)) ∷ []) ([])) s.NoBlock (s.Then 12 (s.Release 1 2 ([])) s.NoBlock (s.Then 13 (s.Acquire 0 ([])) s.NoBlock (s.Then 14 (s.FreeLock 0 1 ([]) ([])) s.NoBlock (s.Then 15 (s.Return ([]) ([]) ([])) s.NoBlock s.End)))))) s.NoBlock) s.End))))))))) ≡ (RefusedAt 4 21 3)
unfolding computing
random_52 = refl

random_53 : body_verdict (record { predicates = ((record { name = name_iv; args = ([]); cases = ((record { opened = (sort.Int ∷ []); facts = ((Rel relation.Le (Number (pos 0)) (Var 0 sort.Int)) ∷ (Rel relation.Le (Var 0 sort.Int) (Number (pos 50))) ∷ []); locals = []; items = ((Data (Number (pos 64)) (Global name_x) (Of2 binary.Cons (Of unary.Vi (Var 0 sort.Int)) Nil)) ∷ []) }) ∷ []) }) ∷ []); specs = ((record { is_void = false; name = name_main; params = ([]); vars = []; pre = (record { opened = []; facts = ([]); locals = []; items = ((Data (Number (pos 64)) (Global name_x) (Of2 binary.Cons (Of unary.Vi (Number (pos 3))) Nil)) ∷ (Data (Number (pos 64)) (Global name_l) (Of2 binary.Cons (Of unary.Vi (Number (pos 0))) Nil)) ∷ []) }); post = (record { opened = []; facts = ((Rel relation.Eq (Var 0 sort.Val) (Of unary.Vi (Number (pos 7)))) ∷ []); locals = []; items = ((Pred (record { name = name_iv; args = ([]) })) ∷ (Data (Number (pos 64)) (Global name_l) (Of2 binary.Cons Undef Nil)) ∷ []) }) }) ∷ []) }) (record { is_void = false; name = name_main; params = ([]); vars = []; pre = (record { opened = []; facts = ([]); locals = []; items = ((Data (Number (pos 64)) (Global name_x) (Of2 binary.Cons (Of unary.Vi (Number (pos 3))) Nil)) ∷ (Data (Number (pos 64)) (Global name_l) (Of2 binary.Cons (Of unary.Vi (Number (pos 0))) Nil)) ∷ []) }); post = (record { opened = []; facts = ((Rel relation.Eq (Var 0 sort.Val) (Of unary.Vi (Number (pos 7)))) ∷ []); locals = []; items = ((Pred (record { name = name_iv; args = ([]) })) ∷ (Data (Number (pos 64)) (Global name_l) (Of2 binary.Cons Undef Nil)) ∷ []) }) }) (record { temps = (name_s ∷ name_t ∷ name_i ∷ name_x1 ∷ name_d0 ∷ name_p1 ∷ name_q1 ∷ []); body = (c.Then (c.Set 0 (c.Const 2)) (c.Then (c.Set 1 (c.Const 2)) (c.Then (c.OnLock lock.Make (c.Address (root.Global name_l 1) c.Here)) (c.Then (c.OnLock lock.Release (c.Address (root.Global name_l 1) c.Here)) (c.Then (c.Set 1 (c.Temp 1)) (c.Then (c.Set 0 (c.Binary two.Add kind.Signed (c.Const 3) (c.Const 2))) (c.Then (c.OnLock lock.Acquire (c.Address (root.Global name_l 1) c.Here)) (c.Then (c.Store (root.Global name_x 1) c.Here (c.Const 4)) (c.Then (c.OnLock lock.Release (c.Address (root.Global name_l 1) c.Here)) (c.Then (c.OnLock lock.Acquire (c.Address (root.Global name_l 1) c.Here)) (c.Then (c.OnLock lock.Free (c.Address (root.Global name_l 1) c.Here)) (c.Then (c.Return (Some (c.Const 7))) c.End)))))))))))) }) (s.Then 1 (s.Set ([]) ([])) s.NoBlock (s.Then 2 (s.Set ([]) ([])) s.NoBlock (s.Then 3 (s.MakeLock 1 (record { name = name_iv; args = ([]) }) ([]) ([])) s.NoBlock (s.Then 4 (s.Fold name_iv 63 ([]) ((Number (pos 3)) ∷ []) ([])) s.NoBlock (s.Then 5 (s.Release 1 2 ([])) s.NoBlock (s.Then 6 (s.Set ([]) ([])) s.NoBlock (s.Then 7 (s.Set ([]) ([])) s.NoBlock (s.Then 8 (s.Acquire 0 ([])) s.NoBlock (s.Then 9 (s.Unfold 2 ((name_k1 ∷ []) ∷ [])) (s.WithBlock (s.Then 10 (s.Store 2 ([]) ([])) s.NoBlock (s.Then 11 (s.Fold name_iv 0 ([]) ((Number (pos 4)) ∷ []) ([])) s.NoBlock (s.Then 12 (s.Release 1 2 ([])) s.NoBlock (s.Then 13 (s.Acquire 0 ([])) s.NoBlock (s.Then 14 (s.FreeLock 0 1 ([]) ([])) s.NoBlock (s.Then 15 (s.Return ([]) ([]) ([])) s.NoBlock s.End)))))) s.NoBlock) s.End))))))))) ≡ (RefusedAt 4 21 1)
unfolding computing
random_53 = refl

random_54 : body_verdict (record { predicates = ((record { name = name_iv; args = ([]); cases = ((record { opened = (sort.Int ∷ []); facts = ((Rel relation.Le (Number (pos 0)) (Var 0 sort.Int)) ∷ (Rel relation.Le (Var 0 sort.Int) (Number (pos 50))) ∷ []); locals = []; items = ((Data (Number (pos 64)) (Global name_x) (Of2 binary.Cons (Of unary.Vi (Var 0 sort.Int)) Nil)) ∷ []) }) ∷ []) }) ∷ []); specs = ((record { is_void = false; name = name_main; params = ([]); vars = []; pre = (record { opened = []; facts = ([]); locals = []; items = ((Data (Number (pos 64)) (Global name_x) (Of2 binary.Cons (Of unary.Vi (Number (pos 3))) Nil)) ∷ (Data (Number (pos 64)) (Global name_l) (Of2 binary.Cons (Of unary.Vi (Number (pos 0))) Nil)) ∷ []) }); post = (record { opened = []; facts = ((Rel relation.Eq (Var 0 sort.Val) (Of unary.Vi (Number (pos 7)))) ∷ []); locals = []; items = ((Pred (record { name = name_iv; args = ([]) })) ∷ (Data (Number (pos 64)) (Global name_l) (Of2 binary.Cons Undef Nil)) ∷ []) }) }) ∷ []) }) (record { is_void = false; name = name_main; params = ([]); vars = []; pre = (record { opened = []; facts = ([]); locals = []; items = ((Data (Number (pos 64)) (Global name_x) (Of2 binary.Cons (Of unary.Vi (Number (pos 3))) Nil)) ∷ (Data (Number (pos 64)) (Global name_l) (Of2 binary.Cons (Of unary.Vi (Number (pos 0))) Nil)) ∷ []) }); post = (record { opened = []; facts = ((Rel relation.Eq (Var 0 sort.Val) (Of unary.Vi (Number (pos 7)))) ∷ []); locals = []; items = ((Pred (record { name = name_iv; args = ([]) })) ∷ (Data (Number (pos 64)) (Global name_l) (Of2 binary.Cons Undef Nil)) ∷ []) }) }) (record { temps = (name_s ∷ name_t ∷ name_i ∷ name_x1 ∷ name_d0 ∷ name_p1 ∷ name_q1 ∷ []); body = (c.Then (c.Set 0 (c.Const 2)) (c.Then (c.Set 1 (c.Const 2)) (c.Then (c.OnLock lock.Make (c.Address (root.Global name_l 1) c.Here)) (c.Then (c.OnLock lock.Release (c.Address (root.Global name_l 1) c.Here)) (c.Then (c.Set 1 (c.Temp 1)) (c.Then (c.Set 0 (c.Binary two.Add kind.Signed (c.Const 3) (c.Const 2))) (c.Then (c.OnLock lock.Acquire (c.Address (root.Global name_l 1) c.Here)) (c.Then (c.Store (root.Global name_x 1) c.Here (c.Const 4)) (c.Then (c.OnLock lock.Release (c.Address (root.Global name_l 1) c.Here)) (c.Then (c.OnLock lock.Acquire (c.Address (root.Global name_l 1) c.Here)) (c.Then (c.OnLock lock.Free (c.Address (root.Global name_l 1) c.Here)) (c.Then (c.Return (Some (c.Const 7))) c.End)))))))))))) }) (s.Then 1 (s.Set ([]) ([])) s.NoBlock (s.Then 2 (s.Set ([]) ([])) s.NoBlock (s.Then 3 (s.MakeLock 1 (record { name = name_iv; args = ([]) }) ([]) ([])) s.NoBlock (s.Then 4 (s.Fold name_iv 0 ([]) ((Number (pos 3)) ∷ []) ([])) s.NoBlock (s.Then 5 (s.Release 1 2 ([])) s.NoBlock (s.Then 6 (s.Set ([]) ([])) s.NoBlock (s.Then 7 (s.Set ([]) ([])) s.NoBlock (s.Then 8 (s.Set ([]) ([])) s.NoBlock (s.Then 9 (s.Acquire 0 ([])) s.NoBlock (s.Then 10 (s.Unfold 2 ((name_k1 ∷ []) ∷ [])) (s.WithBlock (s.Then 11 (s.Store 2 ([]) ([])) s.NoBlock (s.Then 12 (s.Fold name_iv 0 ([]) ((Number (pos 4)) ∷ []) ([])) s.NoBlock (s.Then 13 (s.Release 1 2 ([])) s.NoBlock (s.Then 14 (s.Acquire 0 ([])) s.NoBlock (s.Then 15 (s.FreeLock 0 1 ([]) ([])) s.NoBlock (s.Then 16 (s.Return ([]) ([]) ([])) s.NoBlock s.End)))))) s.NoBlock) s.End)))))))))) ≡ (RefusedAt 8 2 1)
unfolding computing
random_54 = refl

random_55 : body_verdict (record { predicates = ((record { name = name_iv; args = ([]); cases = ((record { opened = (sort.Int ∷ []); facts = ((Rel relation.Le (Number (pos 0)) (Var 0 sort.Int)) ∷ (Rel relation.Le (Var 0 sort.Int) (Number (pos 50))) ∷ []); locals = []; items = ((Data (Number (pos 64)) (Global name_x) (Of2 binary.Cons (Of unary.Vi (Var 0 sort.Int)) Nil)) ∷ []) }) ∷ []) }) ∷ []); specs = ((record { is_void = false; name = name_main; params = ([]); vars = []; pre = (record { opened = []; facts = ([]); locals = []; items = ((Data (Number (pos 64)) (Global name_x) (Of2 binary.Cons (Of unary.Vi (Number (pos 3))) Nil)) ∷ (Data (Number (pos 64)) (Global name_l) (Of2 binary.Cons (Of unary.Vi (Number (pos 0))) Nil)) ∷ []) }); post = (record { opened = []; facts = ((Rel relation.Eq (Var 0 sort.Val) (Of unary.Vi (Number (pos 7)))) ∷ []); locals = []; items = ((Pred (record { name = name_iv; args = ([]) })) ∷ (Data (Number (pos 64)) (Global name_l) (Of2 binary.Cons Undef Nil)) ∷ []) }) }) ∷ []) }) (record { is_void = false; name = name_main; params = ([]); vars = []; pre = (record { opened = []; facts = ([]); locals = []; items = ((Data (Number (pos 64)) (Global name_x) (Of2 binary.Cons (Of unary.Vi (Number (pos 3))) Nil)) ∷ (Data (Number (pos 64)) (Global name_l) (Of2 binary.Cons (Of unary.Vi (Number (pos 0))) Nil)) ∷ []) }); post = (record { opened = []; facts = ((Rel relation.Eq (Var 0 sort.Val) (Of unary.Vi (Number (pos 7)))) ∷ []); locals = []; items = ((Pred (record { name = name_iv; args = ([]) })) ∷ (Data (Number (pos 64)) (Global name_l) (Of2 binary.Cons Undef Nil)) ∷ []) }) }) (record { temps = (name_s ∷ name_t ∷ name_i ∷ name_x1 ∷ name_d0 ∷ name_p1 ∷ name_q1 ∷ []); body = (c.Then (c.Set 0 (c.Const 2)) (c.Then (c.Set 1 (c.Const 2)) (c.Then (c.OnLock lock.Make (c.Address (root.Global name_l 1) c.Here)) (c.Then (c.OnLock lock.Release (c.Address (root.Global name_l 1) c.Here)) (c.Then (c.Set 1 (c.Temp 1)) (c.Then (c.Set 0 (c.Binary two.Add kind.Signed (c.Const 3) (c.Const 2))) (c.Then (c.OnLock lock.Acquire (c.Address (root.Global name_l 1) c.Here)) (c.Then (c.Store (root.Global name_x 1) c.Here (c.Const 4)) (c.Then (c.OnLock lock.Release (c.Address (root.Global name_l 1) c.Here)) (c.Then (c.OnLock lock.Acquire (c.Address (root.Global name_l 1) c.Here)) (c.Then (c.OnLock lock.Free (c.Address (root.Global name_l 1) c.Here)) (c.Then (c.Return (Some (c.Const 7))) c.End)))))))))))) }) (s.Then 1 (s.Set ([]) ([])) s.NoBlock (s.Then 2 (s.Set ([]) ([])) s.NoBlock (s.Then 3 (s.MakeLock 1 (record { name = name_iv; args = ([]) }) ([]) ([])) s.NoBlock (s.Then 4 (s.Fold name_iv 0 ([]) ((Number (pos 3)) ∷ []) ([])) s.NoBlock (s.Then 5 (s.Release 1 2 ([])) s.NoBlock (s.Then 6 (s.Set ([]) ([])) s.NoBlock (s.Then 7 (s.Set ([]) ([])) s.NoBlock (s.Then 8 (s.Acquire 0 ([])) s.NoBlock (s.Then 9 (s.Unfold 2 ((name_k1 ∷ []) ∷ [])) (s.WithBlock (s.Then 10 (s.Store 2 ([]) ([])) s.NoBlock (s.Then 11 (s.Fold name_iv 0 ([]) ((Number (pos 4)) ∷ []) ([])) s.NoBlock (s.Then 12 (s.Acquire 0 ([])) s.NoBlock (s.Then 13 (s.Release 1 2 ([])) s.NoBlock (s.Then 14 (s.FreeLock 0 1 ([]) ([])) s.NoBlock (s.Then 15 (s.Return ([]) ([]) ([])) s.NoBlock s.End)))))) s.NoBlock) s.End))))))))) ≡ (RefusedAt 12 17 1)
unfolding computing
random_55 = refl

random_56 : body_verdict (record { predicates = ((record { name = name_iv; args = ([]); cases = ((record { opened = (sort.Int ∷ []); facts = ((Rel relation.Le (Number (pos 0)) (Var 0 sort.Int)) ∷ (Rel relation.Le (Var 0 sort.Int) (Number (pos 50))) ∷ []); locals = []; items = ((Data (Number (pos 64)) (Global name_x) (Of2 binary.Cons (Of unary.Vi (Var 0 sort.Int)) Nil)) ∷ []) }) ∷ []) }) ∷ []); specs = ((record { is_void = false; name = name_main; params = ([]); vars = []; pre = (record { opened = []; facts = ([]); locals = []; items = ((Data (Number (pos 64)) (Global name_x) (Of2 binary.Cons (Of unary.Vi (Number (pos 3))) Nil)) ∷ (Data (Number (pos 64)) (Global name_l) (Of2 binary.Cons (Of unary.Vi (Number (pos 0))) Nil)) ∷ []) }); post = (record { opened = []; facts = ((Rel relation.Eq (Var 0 sort.Val) (Of unary.Vi (Number (pos 7)))) ∷ []); locals = []; items = ((Pred (record { name = name_iv; args = ([]) })) ∷ (Data (Number (pos 64)) (Global name_l) (Of2 binary.Cons Undef Nil)) ∷ []) }) }) ∷ []) }) (record { is_void = false; name = name_main; params = ([]); vars = []; pre = (record { opened = []; facts = ([]); locals = []; items = ((Data (Number (pos 64)) (Global name_x) (Of2 binary.Cons (Of unary.Vi (Number (pos 3))) Nil)) ∷ (Data (Number (pos 64)) (Global name_l) (Of2 binary.Cons (Of unary.Vi (Number (pos 0))) Nil)) ∷ []) }); post = (record { opened = []; facts = ((Rel relation.Eq (Var 0 sort.Val) (Of unary.Vi (Number (pos 7)))) ∷ []); locals = []; items = ((Pred (record { name = name_iv; args = ([]) })) ∷ (Data (Number (pos 64)) (Global name_l) (Of2 binary.Cons Undef Nil)) ∷ []) }) }) (record { temps = (name_s ∷ name_t ∷ name_i ∷ name_x1 ∷ name_d0 ∷ name_p1 ∷ name_q1 ∷ []); body = (c.Then (c.Set 0 (c.Const 2)) (c.Then (c.Set 1 (c.Const 2)) (c.Then (c.OnLock lock.Make (c.Address (root.Global name_l 1) c.Here)) (c.Then (c.OnLock lock.Release (c.Address (root.Global name_l 1) c.Here)) (c.Then (c.Set 1 (c.Temp 1)) (c.Then (c.Set 0 (c.Binary two.Add kind.Signed (c.Const 3) (c.Const 2))) (c.Then (c.OnLock lock.Acquire (c.Address (root.Global name_l 1) c.Here)) (c.Then (c.Store (root.Global name_x 1) c.Here (c.Const 4)) (c.Then (c.OnLock lock.Release (c.Address (root.Global name_l 1) c.Here)) (c.Then (c.OnLock lock.Acquire (c.Address (root.Global name_l 1) c.Here)) (c.Then (c.OnLock lock.Free (c.Address (root.Global name_l 1) c.Here)) (c.Then (c.Return (Some (c.Const 7))) c.End)))))))))))) }) (s.Then 1 (s.Set ([]) ([])) s.NoBlock (s.Then 2 (s.MakeLock 1 (record { name = name_iv; args = ([]) }) ([]) ([])) s.NoBlock (s.Then 3 (s.Fold name_iv 0 ([]) ((Number (pos 3)) ∷ []) ([])) s.NoBlock (s.Then 4 (s.Release 1 2 ([])) s.NoBlock (s.Then 5 (s.Set ([]) ([])) s.NoBlock (s.Then 6 (s.Set ([]) ([])) s.NoBlock (s.Then 7 (s.Acquire 0 ([])) s.NoBlock (s.Then 8 (s.Unfold 2 ((name_k1 ∷ []) ∷ [])) (s.WithBlock (s.Then 9 (s.Store 2 ([]) ([])) s.NoBlock (s.Then 10 (s.Fold name_iv 0 ([]) ((Number (pos 4)) ∷ []) ([])) s.NoBlock (s.Then 11 (s.Release 1 2 ([])) s.NoBlock (s.Then 12 (s.Acquire 0 ([])) s.NoBlock (s.Then 13 (s.FreeLock 0 1 ([]) ([])) s.NoBlock (s.Then 14 (s.Continue ([]) ([])) s.NoBlock s.End)))))) s.NoBlock) s.End)))))))) ≡ (RefusedAt 2 16 1)
unfolding computing
random_56 = refl

random_57 : body_verdict (record { predicates = ((record { name = name_iv; args = ([]); cases = ((record { opened = (sort.Int ∷ []); facts = ((Rel relation.Le (Number (pos 0)) (Var 0 sort.Int)) ∷ (Rel relation.Le (Var 0 sort.Int) (Number (pos 50))) ∷ []); locals = []; items = ((Data (Number (pos 64)) (Global name_x) (Of2 binary.Cons (Of unary.Vi (Var 0 sort.Int)) Nil)) ∷ []) }) ∷ []) }) ∷ []); specs = ((record { is_void = false; name = name_main; params = ([]); vars = []; pre = (record { opened = []; facts = ([]); locals = []; items = ((Data (Number (pos 64)) (Global name_x) (Of2 binary.Cons (Of unary.Vi (Number (pos 3))) Nil)) ∷ (Data (Number (pos 64)) (Global name_l) (Of2 binary.Cons (Of unary.Vi (Number (pos 0))) Nil)) ∷ []) }); post = (record { opened = []; facts = ((Rel relation.Eq (Var 0 sort.Val) (Of unary.Vi (Number (pos 7)))) ∷ []); locals = []; items = ((Pred (record { name = name_iv; args = ([]) })) ∷ (Data (Number (pos 64)) (Global name_l) (Of2 binary.Cons Undef Nil)) ∷ []) }) }) ∷ []) }) (record { is_void = false; name = name_main; params = ([]); vars = []; pre = (record { opened = []; facts = ([]); locals = []; items = ((Data (Number (pos 64)) (Global name_x) (Of2 binary.Cons (Of unary.Vi (Number (pos 3))) Nil)) ∷ (Data (Number (pos 64)) (Global name_l) (Of2 binary.Cons (Of unary.Vi (Number (pos 0))) Nil)) ∷ []) }); post = (record { opened = []; facts = ((Rel relation.Eq (Var 0 sort.Val) (Of unary.Vi (Number (pos 7)))) ∷ []); locals = []; items = ((Pred (record { name = name_iv; args = ([]) })) ∷ (Data (Number (pos 64)) (Global name_l) (Of2 binary.Cons Undef Nil)) ∷ []) }) }) (record { temps = (name_s ∷ name_t ∷ name_i ∷ name_x1 ∷ name_d0 ∷ name_p1 ∷ name_q1 ∷ []); body = (c.Then (c.Set 0 (c.Const 2)) (c.Then (c.Set 1 (c.Const 2)) (c.Then (c.OnLock lock.Make (c.Address (root.Global name_l 1) c.Here)) (c.Then (c.OnLock lock.Release (c.Address (root.Global name_l 1) c.Here)) (c.Then (c.Set 1 (c.Temp 1)) (c.Then (c.Set 0 (c.Binary two.Add kind.Signed (c.Const 3) (c.Const 2))) (c.Then (c.OnLock lock.Acquire (c.Address (root.Global name_l 1) c.Here)) (c.Then (c.Store (root.Global name_x 1) c.Here (c.Const 4)) (c.Then (c.OnLock lock.Release (c.Address (root.Global name_l 1) c.Here)) (c.Then (c.OnLock lock.Acquire (c.Address (root.Global name_l 1) c.Here)) (c.Then (c.OnLock lock.Free (c.Address (root.Global name_l 1) c.Here)) (c.Then (c.Return (Some (c.Const 7))) c.End)))))))))))) }) (s.Then 1 (s.Set ([]) ([])) s.NoBlock (s.Then 2 (s.Set ([]) ([])) s.NoBlock (s.Then 3 (s.Fold name_iv 0 ([]) ((Number (pos 3)) ∷ []) ([])) s.NoBlock (s.Then 4 (s.Release 1 2 ([])) s.NoBlock (s.Then 5 (s.Set ([]) ([])) s.NoBlock (s.Then 6 (s.Set ([]) ([])) s.NoBlock (s.Then 7 (s.Acquire 0 ([])) s.NoBlock (s.Then 8 (s.Unfold 2 ((name_k1 ∷ []) ∷ [])) (s.WithBlock (s.Then 9 (s.Store 2 ([]) ([])) s.NoBlock (s.Then 10 (s.Fold name_iv 0 ([]) ((Number (pos 4)) ∷ []) ([])) s.NoBlock (s.Then 11 (s.Release 1 2 ([])) s.NoBlock (s.Then 12 (s.Acquire 0 ([])) s.NoBlock (s.Then 13 (s.FreeLock 0 1 ([]) ([])) s.NoBlock (s.Then 14 (s.Return ([]) ([]) ([])) s.NoBlock s.End)))))) s.NoBlock) s.End)))))))) ≡ (RefusedAt 4 18 1)
unfolding computing
random_57 = refl

random_58 : body_verdict (record { predicates = ((record { name = name_E; args = ([]); cases = ((record { opened = []; facts = ([]); locals = []; items = ([]) }) ∷ []) }) ∷ (record { name = name_iv; args = ([]); cases = ((record { opened = (sort.Int ∷ []); facts = ((Rel relation.Le (Number (pos 0)) (Var 0 sort.Int)) ∷ (Rel relation.Le (Var 0 sort.Int) (Number (pos 50))) ∷ []); locals = []; items = ((Data (Number (pos 64)) (Global name_x) (Of2 binary.Cons (Of unary.Vi (Var 0 sort.Int)) Nil)) ∷ []) }) ∷ []) }) ∷ []); specs = ((record { is_void = false; name = name_inc; params = (name_n ∷ []); vars = ((name_a, sort.Int) ∷ []); pre = (record { opened = []; facts = ((Rel relation.Le (Number (pos 0)) (Var 0 sort.Int)) ∷ (Rel relation.Le (Var 0 sort.Int) (Number (pos 100))) ∷ []); locals = ((name_n, (Of unary.Vi (Var 0 sort.Int))) ∷ []); items = ([]) }); post = (record { opened = []; facts = ((Rel relation.Eq (Var 1 sort.Val) (Of unary.Vi (Of2 binary.Add (Var 0 sort.Int) (Number (pos 1))))) ∷ []); locals = []; items = ([]) }) }) ∷ (record { is_void = false; name = name_main; params = ([]); vars = []; pre = (record { opened = []; facts = ([]); locals = []; items = ((Data (Number (pos 64)) (Global name_x) (Of2 binary.Cons (Of unary.Vi (Number (pos 3))) Nil)) ∷ (Data (Number (pos 64)) (Global name_l) (Of2 binary.Cons (Of unary.Vi (Number (pos 0))) Nil)) ∷ []) }); post = (record { opened = []; facts = ((Rel relation.Eq (Var 0 sort.Val) (Of unary.Vi (Number (pos 7)))) ∷ []); locals = []; items = ((Data (Number (pos 64)) (Global name_x) (Of2 binary.Cons (Of unary.Vi (Number (pos 4))) Nil)) ∷ (Pred (record { name = name_E; args = ([]) })) ∷ (Data (Number (pos 64)) (Global name_l) (Of2 binary.Cons Undef Nil)) ∷ []) }) }) ∷ []) }) (record { is_void = false; name = name_main; params = ([]); vars = []; pre = (record { opened = []; facts = ([]); locals = []; items = ((Data (Number (pos 64)) (Global name_x) (Of2 binary.Cons (Of unary.Vi (Number (pos 3))) Nil)) ∷ (Data (Number (pos 64)) (Global name_l) (Of2 binary.Cons (Of unary.Vi (Number (pos 0))) Nil)) ∷ []) }); post = (record { opened = []; facts = ((Rel relation.Eq (Var 0 sort.Val) (Of unary.Vi (Number (pos 7)))) ∷ []); locals = []; items = ((Data (Number (pos 64)) (Global name_x) (Of2 binary.Cons (Of unary.Vi (Number (pos 4))) Nil)) ∷ (Pred (record { name = name_E; args = ([]) })) ∷ (Data (Number (pos 64)) (Global name_l) (Of2 binary.Cons Undef Nil)) ∷ []) }) }) (record { temps = (name_s ∷ name_t ∷ name_i ∷ name_x1 ∷ name_d0 ∷ name_p1 ∷ name_q1 ∷ []); body = (c.Then (c.Set 0 (c.Const 0)) (c.Then (c.Set 1 (c.Const 1)) (c.Then (c.OnLock lock.Make (c.Address (root.Global name_l 1) c.Here)) (c.Then (c.OnLock lock.Release (c.Address (root.Global name_l 1) c.Here)) (c.Then (c.Set 0 (c.Const 2)) (c.Then (c.Set 4 (c.Temp 1)) (c.Then (c.Set 0 (c.Binary two.Div kind.Signed (c.Const 1) (c.Temp 4))) (c.Then (c.Call (Some 1) name_inc ((c.Const 2) ∷ [])) (c.Then (c.OnLock lock.Acquire (c.Address (root.Global name_l 1) c.Here)) (c.Then (c.Store (root.Global name_x 1) c.Here (c.Const 4)) (c.Then (c.OnLock lock.Release (c.Address (root.Global name_l 1) c.Here)) (c.Then (c.OnLock lock.Acquire (c.Address (root.Global name_l 1) c.Here)) (c.Then (c.OnLock lock.Free (c.Address (root.Global name_l 1) c.Here)) (c.Then (c.Return (Some (c.Const 7))) c.End)))))))))))))) }) (s.Then 1 (s.Set ([]) ([])) s.NoBlock (s.Then 2 (s.Share 0 (Number (pos 32)) ([])) s.NoBlock (s.Then 3 (s.Unshare 2 1 ([])) s.NoBlock (s.Then 4 (s.Set ([]) ([])) s.NoBlock (s.Then 5 (s.MakeLock 0 (record { name = name_E; args = ([]) }) ([]) ([])) s.NoBlock (s.Then 6 (s.Fold name_E 0 ([]) ([]) ([])) s.NoBlock (s.Then 7 (s.Release 2 3 ([])) s.NoBlock (s.Then 8 (s.Set ([]) ([])) s.NoBlock (s.Then 9 (s.Set ([]) ([])) s.NoBlock (s.Then 10 (s.Set ([]) ([])) s.NoBlock (s.Then 11 (s.Share 0 (Number (pos 16)) ([])) s.NoBlock (s.Then 12 (s.Unshare 1 2 ([])) s.NoBlock (s.Then 13 (s.Call ((Number (pos 2)) ∷ []) ([]) ([]) (name_k1 ∷ [])) s.NoBlock (s.Then 14 (s.Acquire 0 ([])) s.NoBlock (s.Then 15 (s.Unfold 3 (([]) ∷ [])) (s.WithBlock (s.Then 16 (s.Block 1 (record { opened = []; facts = ([]); locals = ((name_s, (Of unary.Vi (Number (pos 1)))) ∷ (name_t, (Named name_k1)) ∷ (name_d0, (Of unary.Vi (Number (pos 1)))) ∷ []); items = ((Lock (Number (pos 64)) (Global name_l) (record { name = name_E; args = ([]) })) ∷ (Data (Number (pos 64)) (Global name_x) (Of2 binary.Cons (Of unary.Vi (Number (pos 4))) Nil)) ∷ (Holds (Global name_l) (record { name = name_E; args = ([]) })) ∷ []) }) ([]) ([])) (s.WithBlock (s.Then 17 (s.Store 1 ([]) ([])) s.NoBlock (s.Then 18 (s.Fall ([]) ([])) s.NoBlock s.End)) s.NoBlock) (s.Then 19 (s.Fold name_E 0 ([]) ([]) ([])) s.NoBlock (s.Then 20 (s.Release 2 3 ([])) s.NoBlock (s.Then 21 (s.Acquire 0 ([])) s.NoBlock (s.Then 22 (s.FreeLock 0 2 ([]) ([])) s.NoBlock (s.Then 23 (s.Return ([]) ([]) ([])) s.NoBlock s.End)))))) s.NoBlock) s.End))))))))))))))) ≡ Accepted
unfolding computing
random_58 = refl

random_59 : body_verdict (record { predicates = ((record { name = name_E; args = ([]); cases = ((record { opened = []; facts = ([]); locals = []; items = ([]) }) ∷ []) }) ∷ (record { name = name_iv; args = ([]); cases = ((record { opened = (sort.Int ∷ []); facts = ((Rel relation.Le (Number (pos 0)) (Var 0 sort.Int)) ∷ (Rel relation.Le (Var 0 sort.Int) (Number (pos 50))) ∷ []); locals = []; items = ((Data (Number (pos 64)) (Global name_x) (Of2 binary.Cons (Of unary.Vi (Var 0 sort.Int)) Nil)) ∷ []) }) ∷ []) }) ∷ []); specs = ((record { is_void = false; name = name_inc; params = (name_n ∷ []); vars = ((name_a, sort.Int) ∷ []); pre = (record { opened = []; facts = ((Rel relation.Le (Number (pos 0)) (Var 0 sort.Int)) ∷ (Rel relation.Le (Var 0 sort.Int) (Number (pos 100))) ∷ []); locals = ((name_n, (Of unary.Vi (Var 0 sort.Int))) ∷ []); items = ([]) }); post = (record { opened = []; facts = ((Rel relation.Eq (Var 1 sort.Val) (Of unary.Vi (Of2 binary.Add (Var 0 sort.Int) (Number (pos 1))))) ∷ []); locals = []; items = ([]) }) }) ∷ (record { is_void = false; name = name_main; params = ([]); vars = []; pre = (record { opened = []; facts = ([]); locals = []; items = ((Data (Number (pos 64)) (Global name_x) (Of2 binary.Cons (Of unary.Vi (Number (pos 3))) Nil)) ∷ (Data (Number (pos 64)) (Global name_l) (Of2 binary.Cons (Of unary.Vi (Number (pos 0))) Nil)) ∷ []) }); post = (record { opened = []; facts = ((Rel relation.Eq (Var 0 sort.Val) (Of unary.Vi (Number (pos 7)))) ∷ []); locals = []; items = ((Data (Number (pos 64)) (Global name_x) (Of2 binary.Cons (Of unary.Vi (Number (pos 4))) Nil)) ∷ (Pred (record { name = name_E; args = ([]) })) ∷ (Data (Number (pos 64)) (Global name_l) (Of2 binary.Cons Undef Nil)) ∷ []) }) }) ∷ []) }) (record { is_void = false; name = name_inc; params = (name_n ∷ []); vars = ((name_a, sort.Int) ∷ []); pre = (record { opened = []; facts = ((Rel relation.Le (Number (pos 0)) (Var 0 sort.Int)) ∷ (Rel relation.Le (Var 0 sort.Int) (Number (pos 100))) ∷ []); locals = ((name_n, (Of unary.Vi (Var 0 sort.Int))) ∷ []); items = ([]) }); post = (record { opened = []; facts = ((Rel relation.Eq (Var 1 sort.Val) (Of unary.Vi (Of2 binary.Add (Var 0 sort.Int) (Number (pos 1))))) ∷ []); locals = []; items = ([]) }) }) (record { temps = (name_n ∷ name_t ∷ []); body = (c.Then (c.Set 1 (c.Binary two.Add kind.Signed (c.Temp 0) (c.Const 1))) (c.Then (c.Return (Some (c.Temp 1))) c.End)) }) (s.Then 1 (s.Set ([]) ((record { lines = ((line.Comb (((pos 1), 0) ∷ ((pos 1), 2) ∷ [])) ∷ []) }) ∷ (record { lines = ((line.Comb (((pos 1), 1) ∷ ((pos 1), 2) ∷ [])) ∷ []) }) ∷ (record { lines = ((line.Comb (((pos 1), 0) ∷ ((pos 1), 2) ∷ [])) ∷ []) }) ∷ (record { lines = ((line.Comb (((pos 1), 1) ∷ ((pos 1), 2) ∷ [])) ∷ []) }) ∷ [])) s.NoBlock (s.Then 2 (s.Return ([]) ([]) ([])) s.NoBlock s.End)) ≡ Accepted
unfolding computing
random_59 = refl

random_60 : body_verdict (record { predicates = ((record { name = name_E; args = ([]); cases = ((record { opened = []; facts = ([]); locals = []; items = ([]) }) ∷ []) }) ∷ (record { name = name_iv; args = ([]); cases = ((record { opened = (sort.Int ∷ []); facts = ((Rel relation.Le (Number (pos 0)) (Var 0 sort.Int)) ∷ (Rel relation.Le (Var 0 sort.Int) (Number (pos 50))) ∷ []); locals = []; items = ((Data (Number (pos 64)) (Global name_x) (Of2 binary.Cons (Of unary.Vi (Var 0 sort.Int)) Nil)) ∷ []) }) ∷ []) }) ∷ []); specs = ((record { is_void = false; name = name_inc; params = (name_n ∷ []); vars = ((name_a, sort.Int) ∷ []); pre = (record { opened = []; facts = ((Rel relation.Le (Number (pos 0)) (Var 0 sort.Int)) ∷ (Rel relation.Le (Var 0 sort.Int) (Number (pos 100))) ∷ []); locals = ((name_n, (Of unary.Vi (Var 0 sort.Int))) ∷ []); items = ([]) }); post = (record { opened = []; facts = ((Rel relation.Eq (Var 1 sort.Val) (Of unary.Vi (Of2 binary.Add (Var 0 sort.Int) (Number (pos 1))))) ∷ []); locals = []; items = ([]) }) }) ∷ (record { is_void = false; name = name_main; params = ([]); vars = []; pre = (record { opened = []; facts = ([]); locals = []; items = ((Data (Number (pos 64)) (Global name_x) (Of2 binary.Cons (Of unary.Vi (Number (pos 3))) Nil)) ∷ (Data (Number (pos 64)) (Global name_l) (Of2 binary.Cons (Of unary.Vi (Number (pos 0))) Nil)) ∷ []) }); post = (record { opened = []; facts = ((Rel relation.Eq (Var 0 sort.Val) (Of unary.Vi (Number (pos 7)))) ∷ []); locals = []; items = ((Data (Number (pos 64)) (Global name_x) (Of2 binary.Cons (Of unary.Vi (Number (pos 4))) Nil)) ∷ (Pred (record { name = name_E; args = ([]) })) ∷ (Data (Number (pos 64)) (Global name_l) (Of2 binary.Cons Undef Nil)) ∷ []) }) }) ∷ []) }) (record { is_void = false; name = name_main; params = ([]); vars = []; pre = (record { opened = []; facts = ([]); locals = []; items = ((Data (Number (pos 64)) (Global name_x) (Of2 binary.Cons (Of unary.Vi (Number (pos 3))) Nil)) ∷ (Data (Number (pos 64)) (Global name_l) (Of2 binary.Cons (Of unary.Vi (Number (pos 0))) Nil)) ∷ []) }); post = (record { opened = []; facts = ((Rel relation.Eq (Var 0 sort.Val) (Of unary.Vi (Number (pos 7)))) ∷ []); locals = []; items = ((Data (Number (pos 64)) (Global name_x) (Of2 binary.Cons (Of unary.Vi (Number (pos 4))) Nil)) ∷ (Pred (record { name = name_E; args = ([]) })) ∷ (Data (Number (pos 64)) (Global name_l) (Of2 binary.Cons Undef Nil)) ∷ []) }) }) (record { temps = (name_s ∷ name_t ∷ name_i ∷ name_x1 ∷ name_d0 ∷ name_p1 ∷ name_q1 ∷ []); body = (c.Then (c.Set 0 (c.Const 0)) (c.Then (c.Set 1 (c.Const 1)) (c.Then (c.OnLock lock.Make (c.Address (root.Global name_l 1) c.Here)) (c.Then (c.OnLock lock.Release (c.Address (root.Global name_l 1) c.Here)) (c.Then (c.Set 0 (c.Const 2)) (c.Then (c.Set 4 (c.Temp 1)) (c.Then (c.Set 0 (c.Binary two.Div kind.Signed (c.Const 1) (c.Temp 4))) (c.Then (c.Call (Some 1) name_inc ((c.Const 2) ∷ [])) (c.Then (c.OnLock lock.Acquire (c.Address (root.Global name_l 1) c.Here)) (c.Then (c.Store (root.Global name_x 1) c.Here (c.Const 4)) (c.Then (c.OnLock lock.Release (c.Address (root.Global name_l 1) c.Here)) (c.Then (c.OnLock lock.Acquire (c.Address (root.Global name_l 1) c.Here)) (c.Then (c.OnLock lock.Free (c.Address (root.Global name_l 1) c.Here)) (c.Then (c.Return (Some (c.Const 7))) c.End)))))))))))))) }) (s.Then 1 (s.Set ([]) ([])) s.NoBlock (s.Then 2 (s.Share 0 (Number (pos 32)) ([])) s.NoBlock (s.Then 3 (s.Unshare 2 1 ([])) s.NoBlock (s.Then 4 (s.Set ([]) ([])) s.NoBlock (s.Then 5 (s.MakeLock 0 (record { name = name_E; args = ([]) }) ([]) ([])) s.NoBlock (s.Then 6 (s.Fold name_E 0 ([]) ([]) ([])) s.NoBlock (s.Then 7 (s.Release 2 3 ([])) s.NoBlock (s.Then 8 (s.Set ([]) ([])) s.NoBlock (s.Then 9 (s.Set ([]) ([])) s.NoBlock (s.Then 10 (s.Set ([]) ([])) s.NoBlock (s.Then 11 (s.Share 0 (Number (pos 16)) ([])) s.NoBlock (s.Then 12 (s.Unshare 1 2 ([])) s.NoBlock (s.Then 13 (s.Call ((Number (pos 2)) ∷ []) ([]) ([]) (name_k1 ∷ [])) s.NoBlock (s.Then 14 (s.Acquire 0 ([])) s.NoBlock (s.Then 15 (s.Unfold 3 (([]) ∷ [])) (s.WithBlock (s.Then 16 (s.Block 1 (record { opened = []; facts = ([]); locals = ((name_s, (Of unary.Vi (Number (pos 1)))) ∷ (name_t, (Named name_k1)) ∷ (name_d0, (Of unary.Vi (Number (pos 1)))) ∷ []); items = ((Lock (Number (pos 64)) (Global name_l) (record { name = name_E; args = ([]) })) ∷ (Data (Number (pos 64)) (Global name_x) (Of2 binary.Cons (Of unary.Vi (Number (pos 4))) Nil)) ∷ (Holds (Global name_l) (record { name = name_E; args = ([]) })) ∷ []) }) ([]) ([])) (s.WithBlock s.End s.NoBlock) (s.Then 17 (s.Fold name_E 0 ([]) ([]) ([])) s.NoBlock (s.Then 18 (s.Release 2 3 ([])) s.NoBlock (s.Then 19 (s.Acquire 0 ([])) s.NoBlock (s.Then 20 (s.FreeLock 0 2 ([]) ([])) s.NoBlock (s.Then 21 (s.Return ([]) ([]) ([])) s.NoBlock s.End)))))) s.NoBlock) s.End))))))))))))))) ≡ (RefusedAt 17 0 10)
unfolding computing
random_60 = refl

random_61 : body_verdict (record { predicates = ((record { name = name_E; args = ([]); cases = ((record { opened = []; facts = ([]); locals = []; items = ([]) }) ∷ []) }) ∷ (record { name = name_iv; args = ([]); cases = ((record { opened = (sort.Int ∷ []); facts = ((Rel relation.Le (Number (pos 0)) (Var 0 sort.Int)) ∷ (Rel relation.Le (Var 0 sort.Int) (Number (pos 50))) ∷ []); locals = []; items = ((Data (Number (pos 64)) (Global name_x) (Of2 binary.Cons (Of unary.Vi (Var 0 sort.Int)) Nil)) ∷ []) }) ∷ []) }) ∷ []); specs = ((record { is_void = false; name = name_inc; params = (name_n ∷ []); vars = ((name_a, sort.Int) ∷ []); pre = (record { opened = []; facts = ((Rel relation.Le (Number (pos 0)) (Var 0 sort.Int)) ∷ (Rel relation.Le (Var 0 sort.Int) (Number (pos 100))) ∷ []); locals = ((name_n, (Of unary.Vi (Var 0 sort.Int))) ∷ []); items = ([]) }); post = (record { opened = []; facts = ((Rel relation.Eq (Var 1 sort.Val) (Of unary.Vi (Of2 binary.Add (Var 0 sort.Int) (Number (pos 1))))) ∷ []); locals = []; items = ([]) }) }) ∷ (record { is_void = false; name = name_main; params = ([]); vars = []; pre = (record { opened = []; facts = ([]); locals = []; items = ((Data (Number (pos 64)) (Global name_x) (Of2 binary.Cons (Of unary.Vi (Number (pos 3))) Nil)) ∷ (Data (Number (pos 64)) (Global name_l) (Of2 binary.Cons (Of unary.Vi (Number (pos 0))) Nil)) ∷ []) }); post = (record { opened = []; facts = ((Rel relation.Eq (Var 0 sort.Val) (Of unary.Vi (Number (pos 7)))) ∷ []); locals = []; items = ((Data (Number (pos 64)) (Global name_x) (Of2 binary.Cons (Of unary.Vi (Number (pos 4))) Nil)) ∷ (Pred (record { name = name_E; args = ([]) })) ∷ (Data (Number (pos 64)) (Global name_l) (Of2 binary.Cons Undef Nil)) ∷ []) }) }) ∷ []) }) (record { is_void = false; name = name_main; params = ([]); vars = []; pre = (record { opened = []; facts = ([]); locals = []; items = ((Data (Number (pos 64)) (Global name_x) (Of2 binary.Cons (Of unary.Vi (Number (pos 3))) Nil)) ∷ (Data (Number (pos 64)) (Global name_l) (Of2 binary.Cons (Of unary.Vi (Number (pos 0))) Nil)) ∷ []) }); post = (record { opened = []; facts = ((Rel relation.Eq (Var 0 sort.Val) (Of unary.Vi (Number (pos 7)))) ∷ []); locals = []; items = ((Data (Number (pos 64)) (Global name_x) (Of2 binary.Cons (Of unary.Vi (Number (pos 4))) Nil)) ∷ (Pred (record { name = name_E; args = ([]) })) ∷ (Data (Number (pos 64)) (Global name_l) (Of2 binary.Cons Undef Nil)) ∷ []) }) }) (record { temps = (name_s ∷ name_t ∷ name_i ∷ name_x1 ∷ name_d0 ∷ name_p1 ∷ name_q1 ∷ []); body = (c.Then (c.Set 0 (c.Const 0)) (c.Then (c.Set 1 (c.Const 1)) (c.Then (c.OnLock lock.Make (c.Address (root.Global name_l 1) c.Here)) (c.Then (c.OnLock lock.Release (c.Address (root.Global name_l 1) c.Here)) (c.Then (c.Set 0 (c.Const 2)) (c.Then (c.Set 4 (c.Temp 1)) (c.Then (c.Set 0 (c.Binary two.Div kind.Signed (c.Const 1) (c.Temp 4))) (c.Then (c.Call (Some 1) name_inc ((c.Const 2) ∷ [])) (c.Then (c.OnLock lock.Acquire (c.Address (root.Global name_l 1) c.Here)) (c.Then (c.Store (root.Global name_x 1) c.Here (c.Const 5)) (c.Then (c.OnLock lock.Release (c.Address (root.Global name_l 1) c.Here)) (c.Then (c.OnLock lock.Acquire (c.Address (root.Global name_l 1) c.Here)) (c.Then (c.OnLock lock.Free (c.Address (root.Global name_l 1) c.Here)) (c.Then (c.Return (Some (c.Const 7))) c.End)))))))))))))) }) (s.Then 1 (s.Set ([]) ([])) s.NoBlock (s.Then 2 (s.Share 0 (Number (pos 32)) ([])) s.NoBlock (s.Then 3 (s.Unshare 2 1 ([])) s.NoBlock (s.Then 4 (s.Set ([]) ([])) s.NoBlock (s.Then 5 (s.MakeLock 0 (record { name = name_E; args = ([]) }) ([]) ([])) s.NoBlock (s.Then 6 (s.Fold name_E 0 ([]) ([]) ([])) s.NoBlock (s.Then 7 (s.Release 2 3 ([])) s.NoBlock (s.Then 8 (s.Set ([]) ([])) s.NoBlock (s.Then 9 (s.Set ([]) ([])) s.NoBlock (s.Then 10 (s.Set ([]) ([])) s.NoBlock (s.Then 11 (s.Share 0 (Number (pos 16)) ([])) s.NoBlock (s.Then 12 (s.Unshare 1 2 ([])) s.NoBlock (s.Then 13 (s.Call ((Number (pos 2)) ∷ []) ([]) ([]) (name_k1 ∷ [])) s.NoBlock (s.Then 14 (s.Acquire 0 ([])) s.NoBlock (s.Then 15 (s.Unfold 3 (([]) ∷ [])) (s.WithBlock (s.Then 16 (s.Block 1 (record { opened = []; facts = ([]); locals = ((name_s, (Of unary.Vi (Number (pos 1)))) ∷ (name_t, (Named name_k1)) ∷ (name_d0, (Of unary.Vi (Number (pos 1)))) ∷ []); items = ((Lock (Number (pos 64)) (Global name_l) (record { name = name_E; args = ([]) })) ∷ (Data (Number (pos 64)) (Global name_x) (Of2 binary.Cons (Of unary.Vi (Number (pos 4))) Nil)) ∷ (Holds (Global name_l) (record { name = name_E; args = ([]) })) ∷ []) }) ([]) ([])) (s.WithBlock (s.Then 17 (s.Store 1 ([]) ([])) s.NoBlock (s.Then 18 (s.Fall ([]) ([])) s.NoBlock s.End)) s.NoBlock) (s.Then 19 (s.Fold name_E 0 ([]) ([]) ([])) s.NoBlock (s.Then 20 (s.Release 2 3 ([])) s.NoBlock (s.Then 21 (s.Acquire 0 ([])) s.NoBlock (s.Then 22 (s.FreeLock 0 2 ([]) ([])) s.NoBlock (s.Then 23 (s.Return ([]) ([]) ([])) s.NoBlock s.End)))))) s.NoBlock) s.End))))))))))))))) ≡ (RefusedAt 18 10 5)
unfolding computing
random_61 = refl

random_62 : body_verdict (record { predicates = ((record { name = name_E; args = ([]); cases = ((record { opened = []; facts = ([]); locals = []; items = ([]) }) ∷ []) }) ∷ (record { name = name_iv; args = ([]); cases = ((record { opened = (sort.Int ∷ []); facts = ((Rel relation.Le (Number (pos 0)) (Var 0 sort.Int)) ∷ (Rel relation.Le (Var 0 sort.Int) (Number (pos 50))) ∷ []); locals = []; items = ((Data (Number (pos 64)) (Global name_x) (Of2 binary.Cons (Of unary.Vi (Var 0 sort.Int)) Nil)) ∷ []) }) ∷ []) }) ∷ []); specs = ((record { is_void = false; name = name_inc; params = (name_n ∷ []); vars = ((name_a, sort.Int) ∷ []); pre = (record { opened = []; facts = ((Rel relation.Le (Number (pos 0)) (Var 0 sort.Int)) ∷ (Rel relation.Le (Var 0 sort.Int) (Number (pos 100))) ∷ []); locals = ((name_n, (Of unary.Vi (Var 0 sort.Int))) ∷ []); items = ([]) }); post = (record { opened = []; facts = ((Rel relation.Eq (Var 1 sort.Val) (Of unary.Vi (Of2 binary.Add (Var 0 sort.Int) (Number (pos 1))))) ∷ []); locals = []; items = ([]) }) }) ∷ (record { is_void = false; name = name_main; params = ([]); vars = []; pre = (record { opened = []; facts = ([]); locals = []; items = ((Data (Number (pos 64)) (Global name_x) (Of2 binary.Cons (Of unary.Vi (Number (pos 3))) Nil)) ∷ (Data (Number (pos 64)) (Global name_l) (Of2 binary.Cons (Of unary.Vi (Number (pos 0))) Nil)) ∷ []) }); post = (record { opened = []; facts = ((Rel relation.Eq (Var 0 sort.Val) (Of unary.Vi (Number (pos 7)))) ∷ []); locals = []; items = ((Data (Number (pos 64)) (Global name_x) (Of2 binary.Cons (Of unary.Vi (Number (pos 4))) Nil)) ∷ (Pred (record { name = name_E; args = ([]) })) ∷ (Data (Number (pos 64)) (Global name_l) (Of2 binary.Cons Undef Nil)) ∷ []) }) }) ∷ []) }) (record { is_void = false; name = name_main; params = ([]); vars = []; pre = (record { opened = []; facts = ([]); locals = []; items = ((Data (Number (pos 64)) (Global name_x) (Of2 binary.Cons (Of unary.Vi (Number (pos 3))) Nil)) ∷ (Data (Number (pos 64)) (Global name_l) (Of2 binary.Cons (Of unary.Vi (Number (pos 0))) Nil)) ∷ []) }); post = (record { opened = []; facts = ((Rel relation.Eq (Var 0 sort.Val) (Of unary.Vi (Number (pos 7)))) ∷ []); locals = []; items = ((Data (Number (pos 64)) (Global name_x) (Of2 binary.Cons (Of unary.Vi (Number (pos 4))) Nil)) ∷ (Pred (record { name = name_E; args = ([]) })) ∷ (Data (Number (pos 64)) (Global name_l) (Of2 binary.Cons Undef Nil)) ∷ []) }) }) (record { temps = (name_s ∷ name_t ∷ name_i ∷ name_x1 ∷ name_d0 ∷ name_p1 ∷ name_q1 ∷ []); body = (c.Then (c.Set 0 (c.Const 0)) (c.Then (c.Set 1 (c.Const 1)) (c.Then (c.OnLock lock.Make (c.Address (root.Global name_l 1) c.Here)) (c.Then (c.OnLock lock.Release (c.Address (root.Global name_l 1) c.Here)) (c.Then (c.Set 0 (c.Const 2)) (c.Then (c.Set 4 (c.Temp 1)) (c.Then (c.Set 0 (c.Binary two.Div kind.Signed (c.Const 1) (c.Temp 4))) (c.Then (c.Call (Some 1) name_inc ((c.Const 2) ∷ [])) (c.Then (c.OnLock lock.Acquire (c.Address (root.Global name_l 1) c.Here)) (c.Then (c.Store (root.Global name_x 1) c.Here (c.Const 4)) (c.Then (c.OnLock lock.Release (c.Address (root.Global name_l 1) c.Here)) (c.Then (c.OnLock lock.Acquire (c.Address (root.Global name_l 1) c.Here)) (c.Then (c.OnLock lock.Free (c.Address (root.Global name_l 1) c.Here)) (c.Then (c.Return (Some (c.Const 7))) c.End)))))))))))))) }) (s.Then 1 (s.Set ([]) ([])) s.NoBlock (s.Then 2 (s.Share 0 (Number (pos 32)) ([])) s.NoBlock (s.Then 3 (s.Unshare 2 1 ([])) s.NoBlock (s.Then 4 (s.Set ([]) ([])) s.NoBlock (s.Then 5 (s.MakeLock 0 (record { name = name_E; args = ([]) }) ([]) ([])) s.NoBlock (s.Then 6 (s.Fold name_E 0 ([]) ([]) ([])) s.NoBlock (s.Then 7 (s.Release 2 3 ([])) s.NoBlock (s.Then 8 (s.Set ([]) ([])) s.NoBlock (s.Then 9 (s.Set ([]) ([])) s.NoBlock (s.Then 10 (s.Set ([]) ([])) s.NoBlock (s.Then 11 (s.Share 0 (Number (pos 16)) ([])) s.NoBlock (s.Then 12 (s.Unshare 1 2 ([])) s.NoBlock (s.Then 13 (s.Call ((Number (pos 2)) ∷ []) ([]) ([]) (name_k1 ∷ [])) s.NoBlock (s.Then 14 (s.Acquire 0 ([])) s.NoBlock (s.Then 15 (s.Unfold 3 (([]) ∷ [])) (s.WithBlock (s.Then 16 (s.Block 1 (record { opened = []; facts = ([]); locals = ((name_k1, (Of unary.Vi (Number (pos 1)))) ∷ (name_t, (Named name_k1)) ∷ (name_d0, (Of unary.Vi (Number (pos 1)))) ∷ []); items = ((Lock (Number (pos 64)) (Global name_l) (record { name = name_E; args = ([]) })) ∷ (Data (Number (pos 64)) (Global name_x) (Of2 binary.Cons (Of unary.Vi (Number (pos 4))) Nil)) ∷ (Holds (Global name_l) (record { name = name_E; args = ([]) })) ∷ []) }) ([]) ([])) (s.WithBlock (s.Then 17 (s.Store 1 ([]) ([])) s.NoBlock (s.Then 18 (s.Fall ([]) ([])) s.NoBlock s.End)) s.NoBlock) (s.Then 19 (s.Fold name_E 0 ([]) ([]) ([])) s.NoBlock (s.Then 20 (s.Release 2 3 ([])) s.NoBlock (s.Then 21 (s.Acquire 0 ([])) s.NoBlock (s.Then 22 (s.FreeLock 0 2 ([]) ([])) s.NoBlock (s.Then 23 (s.Return ([]) ([]) ([])) s.NoBlock s.End)))))) s.NoBlock) s.End))))))))))))))) ≡ (RefusedAt 16 11 4)
unfolding computing
random_62 = refl

random_63 : body_verdict (record { predicates = ((record { name = name_E; args = ([]); cases = ((record { opened = []; facts = ([]); locals = []; items = ([]) }) ∷ []) }) ∷ (record { name = name_iv; args = ([]); cases = ((record { opened = (sort.Int ∷ []); facts = ((Rel relation.Le (Number (pos 0)) (Var 0 sort.Int)) ∷ (Rel relation.Le (Var 0 sort.Int) (Number (pos 50))) ∷ []); locals = []; items = ((Data (Number (pos 64)) (Global name_x) (Of2 binary.Cons (Of unary.Vi (Var 0 sort.Int)) Nil)) ∷ []) }) ∷ []) }) ∷ []); specs = ((record { is_void = false; name = name_inc; params = (name_n ∷ []); vars = ((name_a, sort.Int) ∷ []); pre = (record { opened = []; facts = ((Rel relation.Le (Number (pos 0)) (Var 0 sort.Int)) ∷ (Rel relation.Le (Var 0 sort.Int) (Number (pos 100))) ∷ []); locals = ((name_n, (Of unary.Vi (Var 0 sort.Int))) ∷ []); items = ([]) }); post = (record { opened = []; facts = ((Rel relation.Eq (Var 1 sort.Val) (Of unary.Vi (Of2 binary.Add (Var 0 sort.Int) (Number (pos 1))))) ∷ []); locals = []; items = ([]) }) }) ∷ (record { is_void = false; name = name_main; params = ([]); vars = []; pre = (record { opened = []; facts = ([]); locals = []; items = ((Data (Number (pos 64)) (Global name_x) (Of2 binary.Cons (Of unary.Vi (Number (pos 3))) Nil)) ∷ (Data (Number (pos 64)) (Global name_l) (Of2 binary.Cons (Of unary.Vi (Number (pos 0))) Nil)) ∷ []) }); post = (record { opened = []; facts = ((Rel relation.Eq (Var 0 sort.Val) (Of unary.Vi (Number (pos 7)))) ∷ []); locals = []; items = ((Data (Number (pos 64)) (Global name_x) (Of2 binary.Cons (Of unary.Vi (Number (pos 4))) Nil)) ∷ (Pred (record { name = name_E; args = ([]) })) ∷ (Data (Number (pos 64)) (Global name_l) (Of2 binary.Cons Undef Nil)) ∷ []) }) }) ∷ []) }) (record { is_void = false; name = name_main; params = ([]); vars = []; pre = (record { opened = []; facts = ([]); locals = []; items = ((Data (Number (pos 64)) (Global name_x) (Of2 binary.Cons (Of unary.Vi (Number (pos 3))) Nil)) ∷ (Data (Number (pos 64)) (Global name_l) (Of2 binary.Cons (Of unary.Vi (Number (pos 0))) Nil)) ∷ []) }); post = (record { opened = []; facts = ((Rel relation.Eq (Var 0 sort.Val) (Of unary.Vi (Number (pos 7)))) ∷ []); locals = []; items = ((Data (Number (pos 64)) (Global name_x) (Of2 binary.Cons (Of unary.Vi (Number (pos 4))) Nil)) ∷ (Pred (record { name = name_E; args = ([]) })) ∷ (Data (Number (pos 64)) (Global name_l) (Of2 binary.Cons Undef Nil)) ∷ []) }) }) (record { temps = (name_s ∷ name_t ∷ name_i ∷ name_x1 ∷ name_d0 ∷ name_p1 ∷ name_q1 ∷ []); body = (c.Then (c.Set 0 (c.Const 0)) (c.Then (c.Set 1 (c.Const 1)) (c.Then (c.OnLock lock.Make (c.Address (root.Global name_l 1) c.Here)) (c.Then (c.OnLock lock.Release (c.Address (root.Global name_l 1) c.Here)) (c.Then (c.Set 0 (c.Const 2)) (c.Then (c.Set 4 (c.Temp 1)) (c.Then (c.Set 0 (c.Binary two.Div kind.Signed (c.Const 1) (c.Temp 4))) (c.Then (c.Call (Some 1) name_inc ((c.Const 2) ∷ [])) (c.Then (c.OnLock lock.Acquire (c.Address (root.Global name_l 1) c.Here)) (c.Then (c.Store (root.Global name_x 1) c.Here (c.Const 4)) (c.Then (c.OnLock lock.Release (c.Address (root.Global name_l 1) c.Here)) (c.Then (c.OnLock lock.Acquire (c.Address (root.Global name_l 1) c.Here)) (c.Then (c.OnLock lock.Free (c.Address (root.Global name_l 1) c.Here)) (c.Then (c.Return (Some (c.Const 7))) c.End)))))))))))))) }) (s.Then 1 (s.Set ([]) ([])) s.NoBlock (s.Then 2 (s.Share 0 (Number (pos 32)) ([])) s.NoBlock (s.Then 3 (s.Unshare 2 1 ([])) s.NoBlock (s.Then 4 (s.Set ([]) ([])) s.NoBlock (s.Then 5 (s.MakeLock 0 (record { name = name_E; args = ([]) }) ([]) ([])) s.NoBlock (s.Then 6 (s.Fold name_E 0 ([]) ([]) ([])) s.NoBlock (s.Then 7 (s.Release 2 3 ([])) s.NoBlock (s.Then 8 (s.Set ([]) ([])) s.NoBlock (s.Then 9 (s.Set ([]) ([])) s.NoBlock (s.Then 10 (s.Set ([]) ([])) s.NoBlock (s.Then 11 (s.Share 0 (Number (pos 16)) ([])) s.NoBlock (s.Then 12 (s.Unshare 1 2 ([])) s.NoBlock (s.Then 13 (s.Call ((Number (pos 2)) ∷ []) ([]) ([]) (name_k1 ∷ [])) s.NoBlock (s.Then 14 (s.Acquire 0 ([])) s.NoBlock (s.Then 15 (s.Unfold 3 (([]) ∷ [])) (s.WithBlock (s.Then 16 (s.Return ([]) ([]) ([])) s.NoBlock (s.Then 17 (s.Fold name_E 0 ([]) ([]) ([])) s.NoBlock (s.Then 18 (s.Release 64 3 ([])) s.NoBlock (s.Then 19 (s.Acquire 0 ([])) s.NoBlock (s.Then 20 (s.FreeLock 0 2 ([]) ([])) s.NoBlock (s.Then 21 (s.Block 1 (record { opened = []; facts = ([]); locals = ((name_s, (Of unary.Vi (Number (pos 1)))) ∷ (name_t, (Named name_k1)) ∷ (name_d0, (Of unary.Vi (Number (pos 1)))) ∷ []); items = ((Lock (Number (pos 64)) (Global name_l) (record { name = name_E; args = ([]) })) ∷ (Data (Number (pos 64)) (Global name_x) (Of2 binary.Cons (Of unary.Vi (Number (pos 4))) Nil)) ∷ (Holds (Global name_l) (record { name = name_E; args = ([]) })) ∷ []) }) ([]) ([])) (s.WithBlock (s.Then 22 (s.Store 1 ([]) ([])) s.NoBlock (s.Then 23 (s.Fall ([]) ([])) s.NoBlock s.End)) s.NoBlock) s.End)))))) s.NoBlock) s.End))))))))))))))) ≡ (RefusedAt 16 9 1)
unfolding computing
random_63 = refl

random_64 : body_verdict (record { predicates = ((record { name = name_E; args = ([]); cases = ((record { opened = []; facts = ([]); locals = []; items = ([]) }) ∷ []) }) ∷ (record { name = name_iv; args = ([]); cases = ((record { opened = (sort.Int ∷ []); facts = ((Rel relation.Le (Number (pos 0)) (Var 0 sort.Int)) ∷ (Rel relation.Le (Var 0 sort.Int) (Number (pos 50))) ∷ []); locals = []; items = ((Data (Number (pos 64)) (Global name_x) (Of2 binary.Cons (Of unary.Vi (Var 0 sort.Int)) Nil)) ∷ []) }) ∷ []) }) ∷ []); specs = ((record { is_void = false; name = name_inc; params = (name_n ∷ []); vars = ((name_a, sort.Int) ∷ []); pre = (record { opened = []; facts = ((Rel relation.Le (Number (pos 0)) (Var 0 sort.Int)) ∷ (Rel relation.Le (Var 0 sort.Int) (Number (pos 100))) ∷ []); locals = ((name_n, (Of unary.Vi (Var 0 sort.Int))) ∷ []); items = ([]) }); post = (record { opened = []; facts = ((Rel relation.Eq (Var 1 sort.Val) (Of unary.Vi (Of2 binary.Add (Var 0 sort.Int) (Number (pos 1))))) ∷ []); locals = []; items = ([]) }) }) ∷ (record { is_void = false; name = name_main; params = ([]); vars = []; pre = (record { opened = []; facts = ([]); locals = []; items = ((Data (Number (pos 64)) (Global name_x) (Of2 binary.Cons (Of unary.Vi (Number (pos 3))) Nil)) ∷ (Data (Number (pos 64)) (Global name_l) (Of2 binary.Cons (Of unary.Vi (Number (pos 0))) Nil)) ∷ []) }); post = (record { opened = []; facts = ((Rel relation.Eq (Var 0 sort.Val) (Of unary.Vi (Number (pos 7)))) ∷ []); locals = []; items = ((Data (Number (pos 64)) (Global name_x) (Of2 binary.Cons (Of unary.Vi (Number (pos 4))) Nil)) ∷ (Pred (record { name = name_E; args = ([]) })) ∷ (Data (Number (pos 64)) (Global name_l) (Of2 binary.Cons Undef Nil)) ∷ []) }) }) ∷ []) }) (record { is_void = false; name = name_main; params = ([]); vars = []; pre = (record { opened = []; facts = ([]); locals = []; items = ((Data (Number (pos 64)) (Global name_x) (Of2 binary.Cons (Of unary.Vi (Number (pos 3))) Nil)) ∷ (Data (Number (pos 64)) (Global name_l) (Of2 binary.Cons (Of unary.Vi (Number (pos 0))) Nil)) ∷ []) }); post = (record { opened = []; facts = ((Rel relation.Eq (Var 0 sort.Val) (Of unary.Vi (Number (pos 7)))) ∷ []); locals = []; items = ((Data (Number (pos 64)) (Global name_x) (Of2 binary.Cons (Of unary.Vi (Number (pos 4))) Nil)) ∷ (Pred (record { name = name_E; args = ([]) })) ∷ (Data (Number (pos 64)) (Global name_l) (Of2 binary.Cons Undef Nil)) ∷ []) }) }) (record { temps = (name_s ∷ name_t ∷ name_i ∷ name_x1 ∷ name_d0 ∷ name_p1 ∷ name_q1 ∷ []); body = (c.Then (c.Set 0 (c.Const 0)) (c.Then (c.Set 1 (c.Const 1)) (c.Then (c.OnLock lock.Make (c.Address (root.Global name_l 1) c.Here)) (c.Then (c.OnLock lock.Release (c.Address (root.Global name_l 1) c.Here)) (c.Then (c.Set 0 (c.Const 2)) (c.Then (c.Set 4 (c.Temp 1)) (c.Then (c.Set 0 (c.Binary two.Div kind.Signed (c.Const 1) (c.Temp 4))) (c.Then (c.Call (Some 1) name_inc ((c.Const 2) ∷ [])) (c.Then (c.OnLock lock.Acquire (c.Address (root.Global name_l 1) c.Here)) (c.Then (c.Store (root.Global name_x 1) c.Here (c.Const 4)) (c.Then (c.OnLock lock.Release (c.Address (root.Global name_l 1) c.Here)) (c.Then (c.OnLock lock.Acquire (c.Address (root.Global name_l 1) c.Here)) (c.Then (c.OnLock lock.Free (c.Address (root.Global name_l 1) c.Here)) (c.Then (c.Return (Some (c.Const 7))) c.End)))))))))))))) }) (s.Then 1 (s.Unshare 1 2 ([])) s.NoBlock (s.Then 2 (s.Set ([]) ([])) s.NoBlock (s.Then 3 (s.Share 0 (Number (pos 32)) ([])) s.NoBlock (s.Then 4 (s.Unshare 2 1 ([])) s.NoBlock (s.Then 5 (s.Set ([]) ([])) s.NoBlock (s.Then 6 (s.MakeLock 0 (record { name = name_E; args = ([]) }) ([]) ([])) s.NoBlock (s.Then 7 (s.Fold name_E 0 ([]) ([]) ([])) s.NoBlock (s.Then 8 (s.Release 2 3 ([])) s.NoBlock (s.Then 9 (s.Set ([]) ([])) s.NoBlock (s.Then 10 (s.Set ([]) ([])) s.NoBlock (s.Then 11 (s.Set ([]) ([])) s.NoBlock (s.Then 12 (s.Share 0 (Number (pos 16)) ([])) s.NoBlock (s.Then 13 (s.Unshare 1 2 ([])) s.NoBlock (s.Then 14 (s.Call ((Number (pos 2)) ∷ []) ([]) ([]) (name_k1 ∷ [])) s.NoBlock (s.Then 15 (s.Acquire 0 ([])) s.NoBlock (s.Then 16 (s.Unfold 3 (([]) ∷ [])) (s.WithBlock (s.Then 17 (s.Block 1 (record { opened = []; facts = ([]); locals = ((name_s, (Of unary.Vi (Number (pos 1)))) ∷ (name_t, (Named name_k1)) ∷ (name_d0, (Of unary.Vi (Number (pos 1)))) ∷ []); items = ((Lock (Number (pos 64)) (Global name_l) (record { name = name_E; args = ([]) })) ∷ (Data (Number (pos 64)) (Global name_x) (Of2 binary.Cons (Of unary.Vi (Number (pos 4))) Nil)) ∷ (Holds (Global name_l) (record { name = name_E; args = ([]) })) ∷ []) }) ([]) ([])) (s.WithBlock (s.Then 18 (s.Store 1 ([]) ([])) s.NoBlock (s.Then 19 (s.Fall ([]) ([])) s.NoBlock s.End)) s.NoBlock) (s.Then 20 (s.Fold name_E 0 ([]) ([]) ([])) s.NoBlock (s.Then 21 (s.Release 2 3 ([])) s.NoBlock (s.Then 22 (s.Acquire 0 ([])) s.NoBlock (s.Then 23 (s.FreeLock 0 2 ([]) ([])) s.NoBlock (s.Then 24 (s.Return ([]) ([]) ([])) s.NoBlock s.End)))))) s.NoBlock) s.End)))))))))))))))) ≡ (RefusedAt 1 32 1)
unfolding computing
random_64 = refl

random_65 : body_verdict (record { predicates = ((record { name = name_E; args = ([]); cases = ((record { opened = []; facts = ([]); locals = []; items = ([]) }) ∷ []) }) ∷ (record { name = name_iv; args = ([]); cases = ((record { opened = (sort.Int ∷ []); facts = ((Rel relation.Le (Number (pos 0)) (Var 0 sort.Int)) ∷ (Rel relation.Le (Var 0 sort.Int) (Number (pos 50))) ∷ []); locals = []; items = ((Data (Number (pos 64)) (Global name_x) (Of2 binary.Cons (Of unary.Vi (Var 0 sort.Int)) Nil)) ∷ []) }) ∷ []) }) ∷ []); specs = ((record { is_void = false; name = name_inc; params = (name_n ∷ []); vars = ((name_a, sort.Int) ∷ []); pre = (record { opened = []; facts = ((Rel relation.Le (Number (pos 0)) (Var 0 sort.Int)) ∷ (Rel relation.Le (Var 0 sort.Int) (Number (pos 100))) ∷ []); locals = ((name_n, (Of unary.Vi (Var 0 sort.Int))) ∷ []); items = ([]) }); post = (record { opened = []; facts = ((Rel relation.Eq (Var 1 sort.Val) (Of unary.Vi (Of2 binary.Add (Var 0 sort.Int) (Number (pos 1))))) ∷ []); locals = []; items = ([]) }) }) ∷ (record { is_void = false; name = name_main; params = ([]); vars = []; pre = (record { opened = []; facts = ([]); locals = []; items = ((Data (Number (pos 64)) (Global name_x) (Of2 binary.Cons (Of unary.Vi (Number (pos 3))) Nil)) ∷ (Data (Number (pos 64)) (Global name_l) (Of2 binary.Cons (Of unary.Vi (Number (pos 0))) Nil)) ∷ []) }); post = (record { opened = []; facts = ((Rel relation.Eq (Var 0 sort.Val) (Of unary.Vi (Number (pos 7)))) ∷ []); locals = []; items = ((Data (Number (pos 64)) (Global name_x) (Of2 binary.Cons (Of unary.Vi (Number (pos 4))) Nil)) ∷ (Pred (record { name = name_E; args = ([]) })) ∷ (Data (Number (pos 64)) (Global name_l) (Of2 binary.Cons Undef Nil)) ∷ []) }) }) ∷ []) }) (record { is_void = false; name = name_main; params = ([]); vars = []; pre = (record { opened = []; facts = ([]); locals = []; items = ((Data (Number (pos 64)) (Global name_x) (Of2 binary.Cons (Of unary.Vi (Number (pos 3))) Nil)) ∷ (Data (Number (pos 64)) (Global name_l) (Of2 binary.Cons (Of unary.Vi (Number (pos 0))) Nil)) ∷ []) }); post = (record { opened = []; facts = ((Rel relation.Eq (Var 0 sort.Val) (Of unary.Vi (Number (pos 7)))) ∷ []); locals = []; items = ((Data (Number (pos 64)) (Global name_x) (Of2 binary.Cons (Of unary.Vi (Number (pos 4))) Nil)) ∷ (Pred (record { name = name_E; args = ([]) })) ∷ (Data (Number (pos 64)) (Global name_l) (Of2 binary.Cons Undef Nil)) ∷ []) }) }) (record { temps = (name_s ∷ name_t ∷ name_i ∷ name_x1 ∷ name_d0 ∷ name_p1 ∷ name_q1 ∷ []); body = (c.Then (c.Set 0 (c.Const 0)) (c.Then (c.Set 1 (c.Const 1)) (c.Then (c.OnLock lock.Make (c.Address (root.Global name_l 1) c.Here)) (c.Then (c.OnLock lock.Release (c.Address (root.Global name_l 1) c.Here)) (c.Then (c.Set 0 (c.Const 2)) (c.Then (c.Set 4 (c.Temp 1)) (c.Then (c.Set 0 (c.Binary two.Div kind.Signed (c.Const 1) (c.Temp 4))) (c.Then (c.Call (Some 1) name_inc ((c.Const 2) ∷ [])) (c.Then (c.OnLock lock.Acquire (c.Address (root.Global name_l 1) c.Here)) (c.Then (c.Store (root.Global name_x 1) c.Here (c.Const 4)) (c.Then (c.OnLock lock.Release (c.Address (root.Global name_l 1) c.Here)) (c.Then (c.OnLock lock.Acquire (c.Address (root.Global name_l 1) c.Here)) (c.Then (c.OnLock lock.Free (c.Address (root.Global name_l 1) c.Here)) (c.Then (c.Return (Some (c.Const 7))) c.End)))))))))))))) }) (s.Then 1 (s.Set ([]) ([])) s.NoBlock (s.Then 2 (s.Unshare 2 1 ([])) s.NoBlock (s.Then 3 (s.Set ([]) ([])) s.NoBlock (s.Then 4 (s.MakeLock 0 (record { name = name_E; args = ([]) }) ([]) ([])) s.NoBlock (s.Then 5 (s.Fold name_E 0 ([]) ([]) ([])) s.NoBlock (s.Then 6 (s.Block 1 (record { opened = []; facts = ([]); locals = ((name_s, (Of unary.Vi (Number (pos 1)))) ∷ (name_t, (Named name_k1)) ∷ (name_d0, (Of unary.Vi (Number (pos 1)))) ∷ []); items = ((Lock (Number (pos 64)) (Global name_l) (record { name = name_E; args = ([]) })) ∷ (Data (Number (pos 64)) (Global name_x) (Of2 binary.Cons (Of unary.Vi (Number (pos 4))) Nil)) ∷ (Holds (Global name_l) (record { name = name_E; args = ([]) })) ∷ []) }) ([]) ([])) (s.WithBlock (s.Then 7 (s.Store 1 ([]) ([])) s.NoBlock (s.Then 8 (s.Fall ([]) ([])) s.NoBlock s.End)) s.NoBlock) (s.Then 9 (s.Set ([]) ([])) s.NoBlock (s.Then 10 (s.Set ([]) ([])) s.NoBlock (s.Then 11 (s.Set ([]) ([])) s.NoBlock (s.Then 12 (s.Share 0 (Number (pos 16)) ([])) s.NoBlock (s.Then 13 (s.Unshare 1 2 ([])) s.NoBlock (s.Then 14 (s.Call ((Number (pos 2)) ∷ []) ([]) ([]) (name_k1 ∷ [])) s.NoBlock (s.Then 15 (s.Acquire 0 ([])) s.NoBlock (s.Then 16 (s.Unfold 3 (([]) ∷ [])) (s.WithBlock (s.Then 17 (s.Release 2 3 ([])) s.NoBlock (s.Then 18 (s.Fold name_E 0 ([]) ([]) ([])) s.NoBlock (s.Then 19 (s.Release 2 3 ([])) s.NoBlock (s.Then 20 (s.Acquire 0 ([])) s.NoBlock (s.Then 21 (s.FreeLock 0 2 ([]) ([])) s.NoBlock (s.Then 22 (s.Return ([]) ([]) ([])) s.NoBlock s.End)))))) s.NoBlock) s.End)))))))))))))) ≡ (RefusedAt 2 32 1)
unfolding computing
random_65 = refl

random_66 : body_verdict (record { predicates = ((record { name = name_E; args = ([]); cases = ((record { opened = []; facts = ([]); locals = []; items = ([]) }) ∷ []) }) ∷ (record { name = name_iv; args = ([]); cases = ((record { opened = (sort.Int ∷ []); facts = ((Rel relation.Le (Number (pos 0)) (Var 0 sort.Int)) ∷ (Rel relation.Le (Var 0 sort.Int) (Number (pos 50))) ∷ []); locals = []; items = ((Data (Number (pos 64)) (Global name_x) (Of2 binary.Cons (Of unary.Vi (Var 0 sort.Int)) Nil)) ∷ []) }) ∷ []) }) ∷ []); specs = ((record { is_void = false; name = name_inc; params = (name_n ∷ []); vars = ((name_a, sort.Int) ∷ []); pre = (record { opened = []; facts = ((Rel relation.Le (Number (pos 0)) (Var 0 sort.Int)) ∷ (Rel relation.Le (Var 0 sort.Int) (Number (pos 100))) ∷ []); locals = ((name_n, (Of unary.Vi (Var 0 sort.Int))) ∷ []); items = ([]) }); post = (record { opened = []; facts = ((Rel relation.Eq (Var 1 sort.Val) (Of unary.Vi (Of2 binary.Add (Var 0 sort.Int) (Number (pos 1))))) ∷ []); locals = []; items = ([]) }) }) ∷ (record { is_void = false; name = name_main; params = ([]); vars = []; pre = (record { opened = []; facts = ([]); locals = []; items = ((Data (Number (pos 64)) (Global name_x) (Of2 binary.Cons (Of unary.Vi (Number (pos 3))) Nil)) ∷ (Data (Number (pos 64)) (Global name_l) (Of2 binary.Cons (Of unary.Vi (Number (pos 0))) Nil)) ∷ []) }); post = (record { opened = []; facts = ((Rel relation.Eq (Var 0 sort.Val) (Of unary.Vi (Number (pos 7)))) ∷ []); locals = []; items = ((Data (Number (pos 64)) (Global name_x) (Of2 binary.Cons (Of unary.Vi (Number (pos 4))) Nil)) ∷ (Pred (record { name = name_E; args = ([]) })) ∷ (Data (Number (pos 64)) (Global name_l) (Of2 binary.Cons Undef Nil)) ∷ []) }) }) ∷ []) }) (record { is_void = false; name = name_main; params = ([]); vars = []; pre = (record { opened = []; facts = ([]); locals = []; items = ((Data (Number (pos 64)) (Global name_x) (Of2 binary.Cons (Of unary.Vi (Number (pos 3))) Nil)) ∷ (Data (Number (pos 64)) (Global name_l) (Of2 binary.Cons (Of unary.Vi (Number (pos 0))) Nil)) ∷ []) }); post = (record { opened = []; facts = ((Rel relation.Eq (Var 0 sort.Val) (Of unary.Vi (Number (pos 7)))) ∷ []); locals = []; items = ((Data (Number (pos 64)) (Global name_x) (Of2 binary.Cons (Of unary.Vi (Number (pos 4))) Nil)) ∷ (Pred (record { name = name_E; args = ([]) })) ∷ (Data (Number (pos 64)) (Global name_l) (Of2 binary.Cons Undef Nil)) ∷ []) }) }) (record { temps = (name_s ∷ name_t ∷ name_i ∷ name_x1 ∷ name_d0 ∷ name_p1 ∷ name_q1 ∷ []); body = (c.Then (c.Set 0 (c.Const 0)) (c.Then (c.Set 1 (c.Const 1)) (c.Then (c.OnLock lock.Make (c.Address (root.Global name_l 1) c.Here)) (c.Then (c.OnLock lock.Release (c.Address (root.Global name_l 1) c.Here)) (c.Then (c.Set 0 (c.Const 2)) (c.Then (c.Set 4 (c.Temp 1)) (c.Then (c.Set 0 (c.Binary two.Div kind.Signed (c.Const 1) (c.Temp 4))) (c.Then (c.Call (Some 1) name_inc ((c.Const 2) ∷ [])) (c.Then (c.OnLock lock.Acquire (c.Address (root.Global name_l 1) c.Here)) (c.Then (c.Store (root.Global name_x 1) c.Here (c.Const 4)) (c.Then (c.OnLock lock.Release (c.Address (root.Global name_l 1) c.Here)) (c.Then (c.OnLock lock.Acquire (c.Address (root.Global name_l 1) c.Here)) (c.Then (c.OnLock lock.Free (c.Address (root.Global name_l 1) c.Here)) (c.Then (c.Return (Some (c.Const 7))) c.End)))))))))))))) }) (s.Then 1 (s.Set ([]) ([])) s.NoBlock (s.Then 2 (s.Share 0 (Number (pos 32)) ([])) s.NoBlock (s.Then 3 (s.Unshare 2 1 ([])) s.NoBlock (s.Then 4 (s.Unfold 0 (([]) ∷ [])) (s.WithBlock s.End s.NoBlock) (s.Then 5 (s.Set ([]) ([])) s.NoBlock (s.Then 6 (s.MakeLock 0 (record { name = name_E; args = ([]) }) ([]) ([])) s.NoBlock (s.Then 7 (s.Fold name_E 0 ([]) ([]) ([])) s.NoBlock (s.Then 8 (s.Release 2 3 ([])) s.NoBlock (s.Then 9 (s.Set ([]) ([])) s.NoBlock (s.Then 10 (s.Set ([]) ([])) s.NoBlock (s.Then 11 (s.Set ([]) ([])) s.NoBlock (s.Then 12 (s.Share 0 (Number (pos 16)) ([])) s.NoBlock (s.Then 13 (s.Unshare 1 2 ([])) s.NoBlock (s.Then 14 (s.Call ((Number (pos 2)) ∷ []) ([]) ([]) (name_k1 ∷ [])) s.NoBlock (s.Then 15 (s.Acquire 0 ([])) s.NoBlock (s.Then 16 (s.Unfold 3 (([]) ∷ [])) (s.WithBlock (s.Then 17 (s.Block 1 (record { opened = []; facts = ([]); locals = ((name_s, (Of unary.Vi (Number (pos 1)))) ∷ (name_t, (Named name_k1)) ∷ (name_d0, (Of unary.Vi (Number (pos 1)))) ∷ []); items = ((Lock (Number (pos 64)) (Global name_l) (record { name = name_E; args = ([]) })) ∷ (Data (Number (pos 64)) (Global name_x) (Of2 binary.Cons (Of unary.Vi (Number (pos 4))) Nil)) ∷ (Holds (Global name_l) (record { name = name_E; args = ([]) })) ∷ []) }) ([]) ([])) (s.WithBlock (s.Then 18 (s.Store 1 ([]) ([])) s.NoBlock (s.Then 19 (s.Fall ([]) ([])) s.NoBlock s.End)) s.NoBlock) (s.Then 20 (s.Fold name_E 0 ([]) ([]) ([])) s.NoBlock (s.Then 21 (s.Release 2 3 ([])) s.NoBlock (s.Then 22 (s.Acquire 0 ([])) s.NoBlock (s.Then 23 (s.FreeLock 0 2 ([]) ([])) s.NoBlock (s.Then 24 (s.Return ([]) ([]) ([])) s.NoBlock s.End)))))) s.NoBlock) s.End)))))))))))))))) ≡ (RefusedAt 4 22 1)
unfolding computing
random_66 = refl

random_67 : body_verdict (record { predicates = ((record { name = name_E; args = ([]); cases = ((record { opened = []; facts = ([]); locals = []; items = ([]) }) ∷ []) }) ∷ (record { name = name_iv; args = ([]); cases = ((record { opened = (sort.Int ∷ []); facts = ((Rel relation.Le (Number (pos 0)) (Var 0 sort.Int)) ∷ (Rel relation.Le (Var 0 sort.Int) (Number (pos 50))) ∷ []); locals = []; items = ((Data (Number (pos 64)) (Global name_x) (Of2 binary.Cons (Of unary.Vi (Var 0 sort.Int)) Nil)) ∷ []) }) ∷ []) }) ∷ []); specs = ((record { is_void = false; name = name_inc; params = (name_n ∷ []); vars = ((name_a, sort.Int) ∷ []); pre = (record { opened = []; facts = ((Rel relation.Le (Number (pos 0)) (Var 0 sort.Int)) ∷ (Rel relation.Le (Var 0 sort.Int) (Number (pos 100))) ∷ []); locals = ((name_n, (Of unary.Vi (Var 0 sort.Int))) ∷ []); items = ([]) }); post = (record { opened = []; facts = ((Rel relation.Eq (Var 1 sort.Val) (Of unary.Vi (Of2 binary.Add (Var 0 sort.Int) (Number (pos 1))))) ∷ []); locals = []; items = ([]) }) }) ∷ (record { is_void = false; name = name_main; params = ([]); vars = []; pre = (record { opened = []; facts = ([]); locals = []; items = ((Data (Number (pos 64)) (Global name_x) (Of2 binary.Cons (Of unary.Vi (Number (pos 3))) Nil)) ∷ (Data (Number (pos 64)) (Global name_l) (Of2 binary.Cons (Of unary.Vi (Number (pos 0))) Nil)) ∷ []) }); post = (record { opened = []; facts = ((Rel relation.Eq (Var 0 sort.Val) (Of unary.Vi (Number (pos 7)))) ∷ []); locals = []; items = ((Data (Number (pos 64)) (Global name_x) (Of2 binary.Cons (Of unary.Vi (Number (pos 4))) Nil)) ∷ (Pred (record { name = name_E; args = ([]) })) ∷ (Data (Number (pos 64)) (Global name_l) (Of2 binary.Cons Undef Nil)) ∷ []) }) }) ∷ []) }) (record { is_void = false; name = name_main; params = ([]); vars = []; pre = (record { opened = []; facts = ([]); locals = []; items = ((Data (Number (pos 64)) (Global name_x) (Of2 binary.Cons (Of unary.Vi (Number (pos 3))) Nil)) ∷ (Data (Number (pos 64)) (Global name_l) (Of2 binary.Cons (Of unary.Vi (Number (pos 0))) Nil)) ∷ []) }); post = (record { opened = []; facts = ((Rel relation.Eq (Var 0 sort.Val) (Of unary.Vi (Number (pos 7)))) ∷ []); locals = []; items = ((Data (Number (pos 64)) (Global name_x) (Of2 binary.Cons (Of unary.Vi (Number (pos 4))) Nil)) ∷ (Pred (record { name = name_E; args = ([]) })) ∷ (Data (Number (pos 64)) (Global name_l) (Of2 binary.Cons Undef Nil)) ∷ []) }) }) (record { temps = (name_s ∷ name_t ∷ name_i ∷ name_x1 ∷ name_d0 ∷ name_p1 ∷ name_q1 ∷ []); body = (c.Then (c.Set 0 (c.Const 0)) (c.Then (c.Set 1 (c.Const 1)) (c.Then (c.OnLock lock.Make (c.Address (root.Global name_l 1) c.Here)) (c.Then (c.OnLock lock.Release (c.Address (root.Global name_l 1) c.Here)) (c.Then (c.Set 0 (c.Const 2)) (c.Then (c.Set 4 (c.Temp 1)) (c.Then (c.Set 0 (c.Binary two.Div kind.Signed (c.Const 1) (c.Temp 4))) (c.Then (c.Call (Some 1) name_inc ((c.Const 2) ∷ [])) (c.Then (c.OnLock lock.Acquire (c.Address (root.Global name_l 1) c.Here)) (c.Then (c.Store (root.Global name_x 1) c.Here (c.Const 4)) (c.Then (c.OnLock lock.Release (c.Address (root.Global name_l 1) c.Here)) (c.Then (c.OnLock lock.Acquire (c.Address (root.Global name_l 1) c.Here)) (c.Then (c.OnLock lock.Free (c.Address (root.Global name_l 1) c.Here)) (c.Then (c.Return (Some (c.Const 7))) c.End)))))))))))))) }) (s.Then 1 (s.Set ([]) ([])) s.NoBlock (s.Then 2 (s.Share 0 (Number (pos 32)) ([])) s.NoBlock (s.Then 3 (s.Unshare 2 1 ([])) s.NoBlock (s.Then 4 (s.Set ([]) ([])) s.NoBlock (s.Then 5 (s.MakeLock 0 (record { name = name_E; args = ([]) }) ([]) ([])) s.NoBlock (s.Then 6 (s.Fold name_E 0 ([]) ([]) ([])) s.NoBlock (s.Then 7 (s.Release 0 3 ([])) s.NoBlock (s.Then 8 (s.Set ([]) ([])) s.NoBlock (s.Then 9 (s.Set ([]) ([])) s.NoBlock (s.Then 10 (s.Set ([]) ([])) s.NoBlock (s.Then 11 (s.Share 0 (Number (pos 16)) ([])) s.NoBlock (s.Then 12 (s.Unshare 1 2 ([])) s.NoBlock (s.Then 13 (s.Call ((Number (pos 2)) ∷ []) ([]) ([]) (name_k1 ∷ [])) s.NoBlock (s.Then 14 (s.Acquire 0 ([])) s.NoBlock (s.Then 15 (s.Unfold 3 (([]) ∷ [])) (s.WithBlock (s.Then 16 (s.Block 1 (record { opened = []; facts = ([]); locals = ((name_s, (Of unary.Vi (Number (pos 1)))) ∷ (name_t, (Named name_k1)) ∷ (name_d0, (Of unary.Vi (Number (pos 1)))) ∷ []); items = ((Lock (Number (pos 64)) (Global name_l) (record { name = name_E; args = ([]) })) ∷ (Data (Number (pos 64)) (Global name_x) (Of2 binary.Cons (Of unary.Vi (Number (pos 4))) Nil)) ∷ (Holds (Global name_l) (record { name = name_E; args = ([]) })) ∷ []) }) ([]) ([])) (s.WithBlock (s.Then 17 (s.Store 1 ([]) ([])) s.NoBlock (s.Then 18 (s.Fall ([]) ([])) s.NoBlock s.End)) s.NoBlock) (s.Then 19 (s.Fold name_E 0 ([]) ([]) ([])) s.NoBlock (s.Then 20 (s.Release 2 3 ([])) s.NoBlock (s.Then 21 (s.Acquire 0 ([])) s.NoBlock (s.Then 22 (s.FreeLock 0 2 ([]) ([])) s.NoBlock (s.Then 23 (s.Return ([]) ([]) ([])) s.NoBlock s.End)))))) s.NoBlock) s.End))))))))))))))) ≡ (RefusedAt 7 18 1)
unfolding computing
random_67 = refl

random_68 : body_verdict (record { predicates = ((record { name = name_E; args = ([]); cases = ((record { opened = []; facts = ([]); locals = []; items = ([]) }) ∷ []) }) ∷ (record { name = name_iv; args = ([]); cases = ((record { opened = (sort.Int ∷ []); facts = ((Rel relation.Le (Number (pos 0)) (Var 0 sort.Int)) ∷ (Rel relation.Le (Var 0 sort.Int) (Number (pos 50))) ∷ []); locals = []; items = ((Data (Number (pos 64)) (Global name_x) (Of2 binary.Cons (Of unary.Vi (Var 0 sort.Int)) Nil)) ∷ []) }) ∷ []) }) ∷ []); specs = ((record { is_void = false; name = name_inc; params = (name_n ∷ []); vars = ((name_a, sort.Int) ∷ []); pre = (record { opened = []; facts = ((Rel relation.Le (Number (pos 0)) (Var 0 sort.Int)) ∷ (Rel relation.Le (Var 0 sort.Int) (Number (pos 100))) ∷ []); locals = ((name_n, (Of unary.Vi (Var 0 sort.Int))) ∷ []); items = ([]) }); post = (record { opened = []; facts = ((Rel relation.Eq (Var 1 sort.Val) (Of unary.Vi (Of2 binary.Add (Var 0 sort.Int) (Number (pos 1))))) ∷ []); locals = []; items = ([]) }) }) ∷ (record { is_void = false; name = name_main; params = ([]); vars = []; pre = (record { opened = []; facts = ([]); locals = []; items = ((Data (Number (pos 64)) (Global name_x) (Of2 binary.Cons (Of unary.Vi (Number (pos 3))) Nil)) ∷ (Data (Number (pos 64)) (Global name_l) (Of2 binary.Cons (Of unary.Vi (Number (pos 0))) Nil)) ∷ []) }); post = (record { opened = []; facts = ((Rel relation.Eq (Var 0 sort.Val) (Of unary.Vi (Number (pos 7)))) ∷ []); locals = []; items = ((Data (Number (pos 64)) (Global name_x) (Of2 binary.Cons (Of unary.Vi (Number (pos 4))) Nil)) ∷ (Pred (record { name = name_E; args = ([]) })) ∷ (Data (Number (pos 64)) (Global name_l) (Of2 binary.Cons Undef Nil)) ∷ []) }) }) ∷ []) }) (record { is_void = false; name = name_main; params = ([]); vars = []; pre = (record { opened = []; facts = ([]); locals = []; items = ((Data (Number (pos 64)) (Global name_x) (Of2 binary.Cons (Of unary.Vi (Number (pos 3))) Nil)) ∷ (Data (Number (pos 64)) (Global name_l) (Of2 binary.Cons (Of unary.Vi (Number (pos 0))) Nil)) ∷ []) }); post = (record { opened = []; facts = ((Rel relation.Eq (Var 0 sort.Val) (Of unary.Vi (Number (pos 7)))) ∷ []); locals = []; items = ((Data (Number (pos 64)) (Global name_x) (Of2 binary.Cons (Of unary.Vi (Number (pos 4))) Nil)) ∷ (Pred (record { name = name_E; args = ([]) })) ∷ (Data (Number (pos 64)) (Global name_l) (Of2 binary.Cons Undef Nil)) ∷ []) }) }) (record { temps = (name_s ∷ name_t ∷ name_i ∷ name_x1 ∷ name_d0 ∷ name_p1 ∷ name_q1 ∷ []); body = (c.Then (c.Set 0 (c.Const 0)) (c.Then (c.Set 1 (c.Const 1)) (c.Then (c.OnLock lock.Make (c.Address (root.Global name_l 1) c.Here)) (c.Then (c.OnLock lock.Release (c.Address (root.Global name_l 1) c.Here)) (c.Then (c.Set 0 (c.Const 2)) (c.Then (c.Set 4 (c.Temp 1)) (c.Then (c.Set 0 (c.Binary two.Div kind.Signed (c.Const 1) (c.Temp 4))) (c.Then (c.Call (Some 1) name_inc ((c.Const 2) ∷ [])) (c.Then (c.OnLock lock.Acquire (c.Address (root.Global name_l 1) c.Here)) (c.Then (c.Store (root.Global name_x 1) c.Here (c.Const 4)) (c.Then (c.OnLock lock.Release (c.Address (root.Global name_l 1) c.Here)) (c.Then (c.OnLock lock.Acquire (c.Address (root.Global name_l 1) c.Here)) (c.Then (c.OnLock lock.Free (c.Address (root.Global name_l 1) c.Here)) (c.Then (c.Return (Some (c.Const 7))) c.End)))))))))))))) }) (s.Then 1 (s.Set ([]) ([])) s.NoBlock (s.Then 2 (s.Share 0 (Number (pos 32)) ([])) s.NoBlock (s.Then 3 (s.Unshare 2 1 ([])) s.NoBlock (s.Then 4 (s.Set ([]) ([])) s.NoBlock (s.Then 5 (s.Return ([]) ([]) ([])) s.NoBlock (s.Then 6 (s.MakeLock 0 (record { name = name_E; args = ([]) }) ([]) ([])) s.NoBlock (s.Then 7 (s.Fold name_E 0 ([]) ([]) ([])) s.NoBlock (s.Then 8 (s.Release 2 3 ([])) s.NoBlock (s.Then 9 (s.Set ([]) ([])) s.NoBlock (s.Then 10 (s.Set ([]) ([])) s.NoBlock (s.Then 11 (s.Set ([]) ([])) s.NoBlock (s.Then 12 (s.Share 0 (Number (pos 16)) ([])) s.NoBlock (s.Then 13 (s.Unshare 1 2 ([])) s.NoBlock (s.Then 14 (s.Call ((Number (pos 2)) ∷ []) ([]) ([]) (name_k1 ∷ [])) s.NoBlock (s.Then 15 (s.Acquire 0 ([])) s.NoBlock (s.Then 16 (s.Unfold 3 (([]) ∷ [])) (s.WithBlock (s.Then 17 (s.Block 1 (record { opened = []; facts = ([]); locals = ((name_s, (Of unary.Vi (Number (pos 1)))) ∷ (name_t, (Named name_k1)) ∷ (name_d0, (Of unary.Vi (Number (pos 1)))) ∷ []); items = ((Lock (Number (pos 64)) (Global name_l) (record { name = name_E; args = ([]) })) ∷ (Data (Number (pos 64)) (Global name_x) (Of2 binary.Cons (Of unary.Vi (Number (pos 4))) Nil)) ∷ (Holds (Global name_l) (record { name = name_E; args = ([]) })) ∷ []) }) ([]) ([])) (s.WithBlock (s.Then 18 (s.Store 1 ([]) ([])) s.NoBlock (s.Then 19 (s.Fall ([]) ([])) s.NoBlock s.End)) s.NoBlock) (s.Then 20 (s.Fold name_E 0 ([]) ([]) ([])) s.NoBlock (s.Then 21 (s.Release 2 3 ([])) s.NoBlock (s.Then 22 (s.Acquire 0 ([])) s.NoBlock (s.Then 23 (s.FreeLock 0 2 ([]) ([])) s.NoBlock s.End))))) s.NoBlock) s.End)))))))))))))))) ≡ (RefusedAt 5 9 1)
unfolding computing
random_68 = refl

random_69 : body_verdict (record { predicates = ((record { name = name_E; args = ([]); cases = ((record { opened = []; facts = ([]); locals = []; items = ([]) }) ∷ []) }) ∷ (record { name = name_iv; args = ([]); cases = ((record { opened = (sort.Int ∷ []); facts = ((Rel relation.Le (Number (pos 0)) (Var 0 sort.Int)) ∷ (Rel relation.Le (Var 0 sort.Int) (Number (pos 50))) ∷ []); locals = []; items = ((Data (Number (pos 64)) (Global name_x) (Of2 binary.Cons (Of unary.Vi (Var 0 sort.Int)) Nil)) ∷ []) }) ∷ []) }) ∷ []); specs = ((record { is_void = false; name = name_inc; params = (name_n ∷ []); vars = ((name_a, sort.Int) ∷ []); pre = (record { opened = []; facts = ((Rel relation.Le (Number (pos 0)) (Var 0 sort.Int)) ∷ (Rel relation.Le (Var 0 sort.Int) (Number (pos 100))) ∷ []); locals = ((name_n, (Of unary.Vi (Var 0 sort.Int))) ∷ []); items = ([]) }); post = (record { opened = []; facts = ((Rel relation.Eq (Var 1 sort.Val) (Of unary.Vi (Of2 binary.Add (Var 0 sort.Int) (Number (pos 1))))) ∷ []); locals = []; items = ([]) }) }) ∷ (record { is_void = false; name = name_main; params = ([]); vars = []; pre = (record { opened = []; facts = ([]); locals = []; items = ((Data (Number (pos 64)) (Global name_x) (Of2 binary.Cons (Of unary.Vi (Number (pos 3))) Nil)) ∷ (Data (Number (pos 64)) (Global name_l) (Of2 binary.Cons (Of unary.Vi (Number (pos 0))) Nil)) ∷ []) }); post = (record { opened = []; facts = ((Rel relation.Eq (Var 0 sort.Val) (Of unary.Vi (Number (pos 7)))) ∷ []); locals = []; items = ((Data (Number (pos 64)) (Global name_x) (Of2 binary.Cons (Of unary.Vi (Number (pos 4))) Nil)) ∷ (Pred (record { name = name_E; args = ([]) })) ∷ (Data (Number (pos 64)) (Global name_l) (Of2 binary.Cons Undef Nil)) ∷ []) }) }) ∷ []) }) (record { is_void = false; name = name_inc; params = (name_n ∷ []); vars = ((name_a, sort.Int) ∷ []); pre = (record { opened = []; facts = ((Rel relation.Le (Number (pos 0)) (Var 0 sort.Int)) ∷ (Rel relation.Le (Var 0 sort.Int) (Number (pos 100))) ∷ []); locals = ((name_n, (Of unary.Vi (Var 0 sort.Int))) ∷ []); items = ([]) }); post = (record { opened = []; facts = ((Rel relation.Eq (Var 1 sort.Val) (Of unary.Vi (Of2 binary.Add (Var 0 sort.Int) (Number (pos 1))))) ∷ []); locals = []; items = ([]) }) }) (record { temps = (name_n ∷ name_t ∷ []); body = (c.Then (c.Set 1 (c.Binary two.Add kind.Signed (c.Temp 0) (c.Const 1))) (c.Then (c.Return (Some (c.Temp 1))) c.End)) }) (s.Then 1 (s.Set ([]) ((record { lines = ((line.Comb (((pos 1), 0) ∷ ((pos 1), 2) ∷ [])) ∷ []) }) ∷ (record { lines = ((line.Comb (((pos 1), 1) ∷ ((pos 1), 2) ∷ [])) ∷ []) }) ∷ (record { lines = ((line.Comb (((pos 1), 0) ∷ ((pos 1), 2) ∷ [])) ∷ []) }) ∷ (record { lines = ((line.Comb (((pos 1), 1) ∷ ((pos 1), 2) ∷ [])) ∷ []) }) ∷ [])) s.NoBlock (s.Then 2 (s.Set ([]) ((record { lines = ((line.Comb (((pos 1), 0) ∷ ((pos 1), 2) ∷ [])) ∷ []) }) ∷ (record { lines = ((line.Comb (((pos 1), 1) ∷ ((pos 1), 2) ∷ [])) ∷ []) }) ∷ (record { lines = ((line.Comb (((pos 1), 0) ∷ ((pos 1), 2) ∷ [])) ∷ []) }) ∷ (record { lines = ((line.Comb (((pos 1), 1) ∷ ((pos 1), 2) ∷ [])) ∷ []) }) ∷ [])) s.NoBlock (s.Then 3 (s.Return ([]) ([]) ([])) s.NoBlock s.End))) ≡ (RefusedAt 2 2 1)
unfolding computing
random_69 = refl

random_70 : body_verdict (record { predicates = ((record { name = name_E; args = ([]); cases = ((record { opened = []; facts = ([]); locals = []; items = ([]) }) ∷ []) }) ∷ (record { name = name_iv; args = ([]); cases = ((record { opened = (sort.Int ∷ []); facts = ((Rel relation.Le (Number (pos 0)) (Var 0 sort.Int)) ∷ (Rel relation.Le (Var 0 sort.Int) (Number (pos 50))) ∷ []); locals = []; items = ((Data (Number (pos 64)) (Global name_x) (Of2 binary.Cons (Of unary.Vi (Var 0 sort.Int)) Nil)) ∷ []) }) ∷ []) }) ∷ []); specs = ((record { is_void = false; name = name_inc; params = (name_n ∷ []); vars = ((name_a, sort.Int) ∷ []); pre = (record { opened = []; facts = ((Rel relation.Le (Number (pos 0)) (Var 0 sort.Int)) ∷ (Rel relation.Le (Var 0 sort.Int) (Number (pos 100))) ∷ []); locals = ((name_n, (Of unary.Vi (Var 0 sort.Int))) ∷ []); items = ([]) }); post = (record { opened = []; facts = ((Rel relation.Eq (Var 1 sort.Val) (Of unary.Vi (Of2 binary.Add (Var 0 sort.Int) (Number (pos 1))))) ∷ []); locals = []; items = ([]) }) }) ∷ (record { is_void = false; name = name_main; params = ([]); vars = []; pre = (record { opened = []; facts = ([]); locals = []; items = ((Data (Number (pos 64)) (Global name_x) (Of2 binary.Cons (Of unary.Vi (Number (pos 3))) Nil)) ∷ (Data (Number (pos 64)) (Global name_l) (Of2 binary.Cons (Of unary.Vi (Number (pos 0))) Nil)) ∷ []) }); post = (record { opened = []; facts = ((Rel relation.Eq (Var 0 sort.Val) (Of unary.Vi (Number (pos 7)))) ∷ []); locals = []; items = ((Data (Number (pos 64)) (Global name_x) (Of2 binary.Cons (Of unary.Vi (Number (pos 4))) Nil)) ∷ (Pred (record { name = name_E; args = ([]) })) ∷ (Data (Number (pos 64)) (Global name_l) (Of2 binary.Cons Undef Nil)) ∷ []) }) }) ∷ []) }) (record { is_void = false; name = name_main; params = ([]); vars = []; pre = (record { opened = []; facts = ([]); locals = []; items = ((Data (Number (pos 64)) (Global name_x) (Of2 binary.Cons (Of unary.Vi (Number (pos 3))) Nil)) ∷ (Data (Number (pos 64)) (Global name_l) (Of2 binary.Cons (Of unary.Vi (Number (pos 0))) Nil)) ∷ []) }); post = (record { opened = []; facts = ((Rel relation.Eq (Var 0 sort.Val) (Of unary.Vi (Number (pos 7)))) ∷ []); locals = []; items = ((Data (Number (pos 64)) (Global name_x) (Of2 binary.Cons (Of unary.Vi (Number (pos 4))) Nil)) ∷ (Pred (record { name = name_E; args = ([]) })) ∷ (Data (Number (pos 64)) (Global name_l) (Of2 binary.Cons Undef Nil)) ∷ []) }) }) (record { temps = (name_s ∷ name_t ∷ name_i ∷ name_x1 ∷ name_d0 ∷ name_p1 ∷ name_q1 ∷ []); body = (c.Then (c.Set 0 (c.Const 0)) (c.Then (c.Set 1 (c.Const 1)) (c.Then (c.OnLock lock.Make (c.Address (root.Global name_l 1) c.Here)) (c.Then (c.OnLock lock.Release (c.Address (root.Global name_l 1) c.Here)) (c.Then (c.Set 0 (c.Const 2)) (c.Then (c.Set 4 (c.Temp 1)) (c.Then (c.Set 0 (c.Binary two.Div kind.Signed (c.Const 1) (c.Temp 4))) (c.Then (c.Call (Some 1) name_inc ((c.Const 2) ∷ [])) (c.Then (c.OnLock lock.Acquire (c.Address (root.Global name_l 1) c.Here)) (c.Then (c.Store (root.Global name_x 1) c.Here (c.Const 4)) (c.Then (c.OnLock lock.Release (c.Address (root.Global name_l 1) c.Here)) (c.Then (c.OnLock lock.Acquire (c.Address (root.Global name_l 1) c.Here)) (c.Then (c.OnLock lock.Free (c.Address (root.Global name_l 1) c.Here)) (c.Then (c.Return (Some (c.Const 7))) c.End)))))))))))))) }) (s.Then 1 (s.Set ([]) ([])) s.NoBlock (s.Then 2 (s.Share 0 (Number (pos 32)) ([])) s.NoBlock (s.Then 3 (s.Unshare 2 1 ([])) s.NoBlock (s.Then 4 (s.Set ([]) ([])) s.NoBlock (s.Then 5 (s.MakeLock 0 (record { name = name_E; args = ([]) }) ([]) ([])) s.NoBlock (s.Then 6 (s.Fold name_E 0 ([]) ([]) ([])) s.NoBlock (s.Then 7 (s.Release 2 3 ([])) s.NoBlock (s.Then 8 (s.Set ([]) ([])) s.NoBlock (s.Then 9 (s.Set ([]) ([])) s.NoBlock (s.Then 10 (s.Set ([]) ([])) s.NoBlock (s.Then 11 (s.Share 0 (Number (pos 16)) ([])) s.NoBlock (s.Then 12 (s.Unshare 1 2 ([])) s.NoBlock (s.Then 13 (s.Call ((Number (pos 2)) ∷ []) ([]) ([]) (name_k1 ∷ [])) s.NoBlock (s.Then 14 (s.Acquire 0 ([])) s.NoBlock (s.Then 15 (s.Unfold 3 (([]) ∷ [])) (s.WithBlock (s.Then 16 (s.Block 1 (record { opened = []; facts = ([]); locals = ((name_s, (Of unary.Vi (Number (pos 1)))) ∷ (name_t, (Named name_k1)) ∷ (name_d0, (Of unary.Vi (Number (pos 1)))) ∷ []); items = ((Lock (Number (pos 5)) (Global name_l) (record { name = name_E; args = ([]) })) ∷ (Data (Number (pos 64)) (Global name_t) (Of2 binary.Cons (Of unary.Vi (Number (pos 4))) Nil)) ∷ (Holds (Global name_l) (record { name = name_E; args = ([]) })) ∷ []) }) ([]) ([])) (s.WithBlock (s.Then 17 (s.Store 1 ([]) ([])) s.NoBlock (s.Then 18 (s.Fall ([]) ([])) s.NoBlock s.End)) s.NoBlock) (s.Then 19 (s.Fold name_E 0 ([]) ([]) ([])) s.NoBlock (s.Then 20 (s.Release 2 3 ([])) s.NoBlock (s.Then 21 (s.Acquire 0 ([])) s.NoBlock (s.Then 22 (s.FreeLock 0 2 ([]) ([])) s.NoBlock (s.Then 23 (s.Return ([]) ([]) ([])) s.NoBlock s.End)))))) s.NoBlock) s.End))))))))))))))) ≡ (RefusedAt 18 10 5)
unfolding computing
random_70 = refl

random_71 : body_verdict (record { predicates = ([]); specs = ((record { is_void = false; name = name_f; params = (name_n0 ∷ name_u1 ∷ name_n2 ∷ []); vars = ((name_a0, sort.Int) ∷ (name_b1, sort.Int) ∷ (name_a2, sort.Int) ∷ []); pre = (record { opened = []; facts = ((Rel relation.Le (Number (pos 0)) (Var 0 sort.Int)) ∷ (Rel relation.Le (Var 0 sort.Int) (Number (pos 9))) ∷ (Rel relation.Le (Number (pos 1)) (Var 2 sort.Int)) ∷ (Rel relation.Le (Var 2 sort.Int) (Number (pos 9))) ∷ []); locals = ((name_n0, (Of unary.Vi (Var 0 sort.Int))) ∷ (name_u1, (Of unary.Vi (Var 1 sort.Int))) ∷ (name_n2, (Of unary.Vi (Var 2 sort.Int))) ∷ []); items = ([]) }); post = (record { opened = []; facts = ([]); locals = []; items = ([]) }) }) ∷ (record { is_void = false; name = name_main; params = ([]); vars = []; pre = (record { opened = []; facts = ([]); locals = []; items = ([]) }); post = (record { opened = []; facts = ((Rel relation.Eq (Var 0 sort.Val) (Of unary.Vi (Number (pos 0)))) ∷ []); locals = []; items = ([]) }) }) ∷ []) }) (record { is_void = false; name = name_f; params = (name_n0 ∷ name_u1 ∷ name_n2 ∷ []); vars = ((name_a0, sort.Int) ∷ (name_b1, sort.Int) ∷ (name_a2, sort.Int) ∷ []); pre = (record { opened = []; facts = ((Rel relation.Le (Number (pos 0)) (Var 0 sort.Int)) ∷ (Rel relation.Le (Var 0 sort.Int) (Number (pos 9))) ∷ (Rel relation.Le (Number (pos 1)) (Var 2 sort.Int)) ∷ (Rel relation.Le (Var 2 sort.Int) (Number (pos 9))) ∷ []); locals = ((name_n0, (Of unary.Vi (Var 0 sort.Int))) ∷ (name_u1, (Of unary.Vi (Var 1 sort.Int))) ∷ (name_n2, (Of unary.Vi (Var 2 sort.Int))) ∷ []); items = ([]) }); post = (record { opened = []; facts = ([]); locals = []; items = ([]) }) }) (record { temps = (name_n0 ∷ name_u1 ∷ name_n2 ∷ name_s ∷ name_t ∷ name_i ∷ name_x1 ∷ name_d0 ∷ name_p1 ∷ name_q1 ∷ []); body = (c.Then (c.Set 3 (c.Const 2)) (c.Then (c.Set 4 (c.Const 1)) (c.Then (c.Set 3 (c.Binary two.Add kind.Signed (c.Temp 0) (c.Const 2))) (c.Then (c.Set 3 (c.Binary two.Eq kind.Signed (c.Temp 2) (c.Const 1))) (c.Then (c.Set 3 (c.Temp 3)) (c.Then (c.Set 6 (c.Binary two.And kind.Unsigned (c.Const 5) (c.Const 3))) (c.Then (c.Set 3 (c.Binary two.Add kind.Signed (c.Temp 4) (c.Temp 3))) (c.Then (c.Set 4 (c.Binary two.Lt kind.Signed (c.Binary two.Add kind.Signed (c.Const 3) (c.Const 2)) (c.Binary two.Add kind.Signed (c.Const 1) (c.Const 2)))) (c.Then (c.Return (Some (c.Temp 3))) c.End))))))))) }) (s.Then 1 (s.Set ([]) ([])) s.NoBlock (s.Then 2 (s.Set ([]) ([])) s.NoBlock (s.Then 3 (s.Set ([]) ((record { lines = ((line.Comb (((pos 1), 0) ∷ ((pos 1), 4) ∷ [])) ∷ []) }) ∷ (record { lines = ((line.Comb (((pos 1), 1) ∷ ((pos 1), 4) ∷ [])) ∷ []) }) ∷ (record { lines = ((line.Comb (((pos 1), 0) ∷ ((pos 1), 4) ∷ [])) ∷ []) }) ∷ (record { lines = ((line.Comb (((pos 1), 1) ∷ ((pos 1), 4) ∷ [])) ∷ []) }) ∷ [])) s.NoBlock (s.Then 4 (s.Set ([]) ((record { lines = ((line.Comb (((pos 1), 2) ∷ ((pos 1), 4) ∷ [])) ∷ []) }) ∷ (record { lines = ((line.Comb (((pos 1), 3) ∷ ((pos 1), 4) ∷ [])) ∷ []) }) ∷ [])) s.NoBlock (s.Then 5 (s.Set ([]) ([])) s.NoBlock (s.Then 6 (s.Set ([]) ([])) s.NoBlock (s.Then 7 (s.Set ([]) ([])) s.NoBlock s.End))))))) ≡ (RefusedAt 7 2 3)
unfolding computing
random_71 = refl

random_72 : body_verdict (record { predicates = ([]); specs = ((record { is_void = false; name = name_f; params = (name_n0 ∷ name_u1 ∷ name_n2 ∷ []); vars = ((name_a0, sort.Int) ∷ (name_b1, sort.Int) ∷ (name_a2, sort.Int) ∷ []); pre = (record { opened = []; facts = ((Rel relation.Le (Number (pos 0)) (Var 0 sort.Int)) ∷ (Rel relation.Le (Var 0 sort.Int) (Number (pos 9))) ∷ (Rel relation.Le (Number (pos 1)) (Var 2 sort.Int)) ∷ (Rel relation.Le (Var 2 sort.Int) (Number (pos 9))) ∷ []); locals = ((name_n0, (Of unary.Vi (Var 0 sort.Int))) ∷ (name_u1, (Of unary.Vi (Var 1 sort.Int))) ∷ (name_n2, (Of unary.Vi (Var 2 sort.Int))) ∷ []); items = ([]) }); post = (record { opened = []; facts = ([]); locals = []; items = ([]) }) }) ∷ (record { is_void = false; name = name_main; params = ([]); vars = []; pre = (record { opened = []; facts = ([]); locals = []; items = ([]) }); post = (record { opened = []; facts = ((Rel relation.Eq (Var 0 sort.Val) (Of unary.Vi (Number (pos 0)))) ∷ []); locals = []; items = ([]) }) }) ∷ []) }) (record { is_void = false; name = name_main; params = ([]); vars = []; pre = (record { opened = []; facts = ([]); locals = []; items = ([]) }); post = (record { opened = []; facts = ((Rel relation.Eq (Var 0 sort.Val) (Of unary.Vi (Number (pos 0)))) ∷ []); locals = []; items = ([]) }) }) (record { temps = ([]); body = (c.Then (c.Return (Some (c.Const 0))) c.End) }) (s.Then 1 (s.Return ([]) ([]) ([])) s.NoBlock s.End) ≡ Accepted
unfolding computing
random_72 = refl

random_73 : body_verdict (record { predicates = ([]); specs = ((record { is_void = false; name = name_f; params = (name_n0 ∷ name_u1 ∷ name_n2 ∷ []); vars = ((name_a0, sort.Int) ∷ (name_b1, sort.Int) ∷ (name_a2, sort.Int) ∷ []); pre = (record { opened = []; facts = ((Rel relation.Le (Number (pos 0)) (Var 0 sort.Int)) ∷ (Rel relation.Le (Var 0 sort.Int) (Number (pos 9))) ∷ (Rel relation.Le (Number (pos 1)) (Var 2 sort.Int)) ∷ (Rel relation.Le (Var 2 sort.Int) (Number (pos 9))) ∷ []); locals = ((name_n0, (Of unary.Vi (Var 0 sort.Int))) ∷ (name_u1, (Of unary.Vi (Var 1 sort.Int))) ∷ (name_n2, (Of unary.Vi (Var 2 sort.Int))) ∷ []); items = ([]) }); post = (record { opened = []; facts = ([]); locals = []; items = ([]) }) }) ∷ (record { is_void = false; name = name_main; params = ([]); vars = []; pre = (record { opened = []; facts = ([]); locals = []; items = ([]) }); post = (record { opened = []; facts = ((Rel relation.Eq (Var 0 sort.Val) (Of unary.Vi (Number (pos 0)))) ∷ []); locals = []; items = ([]) }) }) ∷ []) }) (record { is_void = false; name = name_main; params = ([]); vars = []; pre = (record { opened = []; facts = ([]); locals = []; items = ([]) }); post = (record { opened = []; facts = ((Rel relation.Eq (Var 0 sort.Val) (Of unary.Vi (Number (pos 0)))) ∷ []); locals = []; items = ([]) }) }) (record { temps = ([]); body = (c.Then (c.Return (Some (c.Const 0))) c.End) }) (s.Then 1 (s.FreeLock 0 1 ([]) ([])) s.NoBlock (s.Then 2 (s.Return ([]) ([]) ([])) s.NoBlock s.End)) ≡ (RefusedAt 1 19 1)
unfolding computing
random_73 = refl

random_74 : body_verdict (record { predicates = ([]); specs = ((record { is_void = false; name = name_f; params = (name_n0 ∷ name_u1 ∷ name_n2 ∷ []); vars = ((name_a0, sort.Int) ∷ (name_b1, sort.Int) ∷ (name_a2, sort.Int) ∷ []); pre = (record { opened = []; facts = ((Rel relation.Le (Number (pos 0)) (Var 0 sort.Int)) ∷ (Rel relation.Le (Var 0 sort.Int) (Number (pos 9))) ∷ (Rel relation.Le (Number (pos 1)) (Var 2 sort.Int)) ∷ (Rel relation.Le (Var 2 sort.Int) (Number (pos 9))) ∷ []); locals = ((name_n0, (Of unary.Vi (Var 0 sort.Int))) ∷ (name_u1, (Of unary.Vi (Var 1 sort.Int))) ∷ (name_n2, (Of unary.Vi (Var 2 sort.Int))) ∷ []); items = ([]) }); post = (record { opened = []; facts = ([]); locals = []; items = ([]) }) }) ∷ (record { is_void = false; name = name_main; params = ([]); vars = []; pre = (record { opened = []; facts = ([]); locals = []; items = ([]) }); post = (record { opened = []; facts = ((Rel relation.Eq (Var 0 sort.Val) (Of unary.Vi (Number (pos 0)))) ∷ []); locals = []; items = ([]) }) }) ∷ []) }) (record { is_void = false; name = name_f; params = (name_n0 ∷ name_u1 ∷ name_n2 ∷ []); vars = ((name_a0, sort.Int) ∷ (name_b1, sort.Int) ∷ (name_a2, sort.Int) ∷ []); pre = (record { opened = []; facts = ((Rel relation.Le (Number (pos 0)) (Var 0 sort.Int)) ∷ (Rel relation.Le (Var 0 sort.Int) (Number (pos 9))) ∷ (Rel relation.Le (Number (pos 1)) (Var 2 sort.Int)) ∷ (Rel relation.Le (Var 2 sort.Int) (Number (pos 9))) ∷ []); locals = ((name_n0, (Of unary.Vi (Var 0 sort.Int))) ∷ (name_u1, (Of unary.Vi (Var 1 sort.Int))) ∷ (name_n2, (Of unary.Vi (Var 2 sort.Int))) ∷ []); items = ([]) }); post = (record { opened = []; facts = ([]); locals = []; items = ([]) }) }) (record { temps = (name_n0 ∷ name_u1 ∷ name_n2 ∷ name_s ∷ name_t ∷ name_i ∷ name_x1 ∷ name_d0 ∷ name_p1 ∷ name_q1 ∷ []); body = (c.Then (c.Set 3 (c.Const 2)) (c.Then (c.Set 4 (c.Const 1)) (c.Then (c.Set 3 (c.Binary two.Add kind.Signed (c.Temp 0) (c.Const 2))) (c.Then (c.Set 3 (c.Binary two.Eq kind.Signed (c.Temp 2) (c.Const 1))) (c.Then (c.Set 3 (c.Temp 3)) (c.Then (c.Set 6 (c.Binary two.And kind.Unsigned (c.Const 5) (c.Const 3))) (c.Then (c.Set 3 (c.Binary two.Add kind.Signed (c.Temp 4) (c.Temp 3))) (c.Then (c.Set 4 (c.Binary two.Lt kind.Signed (c.Binary two.Add kind.Signed (c.Const 3) (c.Const 2)) (c.Binary two.Add kind.Signed (c.Const 1) (c.Const 2)))) (c.Then (c.Return (Some (c.Temp 3))) c.End))))))))) }) (s.Then 1 (s.Set ([]) ([])) s.NoBlock (s.Then 2 (s.Set ([]) ([])) s.NoBlock (s.Then 3 (s.Set ([]) ((record { lines = ((line.Comb (((pos 1), 0) ∷ ((pos 1), 1) ∷ [])) ∷ []) }) ∷ (record { lines = ((line.Comb (((pos 1), 1) ∷ ((pos 1), 4) ∷ [])) ∷ []) }) ∷ (record { lines = ((line.Comb (((pos 1), 0) ∷ ((pos 1), 4) ∷ [])) ∷ []) }) ∷ (record { lines = ((line.Comb (((pos 1), 1) ∷ ((pos 1), 4) ∷ [])) ∷ []) }) ∷ [])) s.NoBlock (s.Then 4 (s.Set ([]) ((record { lines = ((line.Comb (((pos 1), 2) ∷ ((pos 1), 4) ∷ [])) ∷ []) }) ∷ (record { lines = ((line.Comb (((pos 1), 3) ∷ ((pos 1), 4) ∷ [])) ∷ []) }) ∷ [])) s.NoBlock (s.Then 5 (s.Set ([]) ([])) s.NoBlock (s.Then 6 (s.Set ([]) ([])) s.NoBlock (s.Then 7 (s.Set ([]) ([])) s.NoBlock s.End))))))) ≡ (RefusedAt 3 2 3)
unfolding computing
random_74 = refl

random_75 : body_verdict (record { predicates = ([]); specs = ((record { is_void = false; name = name_f; params = (name_n0 ∷ name_u1 ∷ name_n2 ∷ []); vars = ((name_a0, sort.Int) ∷ (name_b1, sort.Int) ∷ (name_a2, sort.Int) ∷ []); pre = (record { opened = []; facts = ((Rel relation.Le (Number (pos 0)) (Var 0 sort.Int)) ∷ (Rel relation.Le (Var 0 sort.Int) (Number (pos 9))) ∷ (Rel relation.Le (Number (pos 1)) (Var 2 sort.Int)) ∷ (Rel relation.Le (Var 2 sort.Int) (Number (pos 9))) ∷ []); locals = ((name_n0, (Of unary.Vi (Var 0 sort.Int))) ∷ (name_u1, (Of unary.Vi (Var 1 sort.Int))) ∷ (name_n2, (Of unary.Vi (Var 2 sort.Int))) ∷ []); items = ([]) }); post = (record { opened = []; facts = ([]); locals = []; items = ([]) }) }) ∷ (record { is_void = false; name = name_main; params = ([]); vars = []; pre = (record { opened = []; facts = ([]); locals = []; items = ([]) }); post = (record { opened = []; facts = ((Rel relation.Eq (Var 0 sort.Val) (Of unary.Vi (Number (pos 0)))) ∷ []); locals = []; items = ([]) }) }) ∷ []) }) (record { is_void = false; name = name_f; params = (name_n0 ∷ name_u1 ∷ name_n2 ∷ []); vars = ((name_a0, sort.Int) ∷ (name_b1, sort.Int) ∷ (name_a2, sort.Int) ∷ []); pre = (record { opened = []; facts = ((Rel relation.Le (Number (pos 0)) (Var 0 sort.Int)) ∷ (Rel relation.Le (Var 0 sort.Int) (Number (pos 9))) ∷ (Rel relation.Le (Number (pos 1)) (Var 2 sort.Int)) ∷ (Rel relation.Le (Var 2 sort.Int) (Number (pos 9))) ∷ []); locals = ((name_n0, (Of unary.Vi (Var 0 sort.Int))) ∷ (name_u1, (Of unary.Vi (Var 1 sort.Int))) ∷ (name_n2, (Of unary.Vi (Var 2 sort.Int))) ∷ []); items = ([]) }); post = (record { opened = []; facts = ([]); locals = []; items = ([]) }) }) (record { temps = (name_n0 ∷ name_u1 ∷ name_n2 ∷ name_s ∷ name_t ∷ name_i ∷ name_x1 ∷ name_d0 ∷ name_p1 ∷ name_q1 ∷ []); body = (c.Then (c.Set 3 (c.Const 2)) (c.Then (c.Set 4 (c.Const 1)) (c.Then (c.Set 3 (c.Binary two.Add kind.Signed (c.Temp 0) (c.Const 2))) (c.Then (c.Set 3 (c.Binary two.Eq kind.Signed (c.Temp 2) (c.Const 1))) (c.Then (c.Set 3 (c.Temp 3)) (c.Then (c.Set 6 (c.Binary two.And kind.Unsigned (c.Const 5) (c.Const 3))) (c.Then (c.Set 3 (c.Binary two.Add kind.Signed (c.Temp 4) (c.Temp 3))) (c.Then (c.Set 4 (c.Binary two.Lt kind.Signed (c.Binary two.Add kind.Signed (c.Const 3) (c.Const 2)) (c.Binary two.Add kind.Signed (c.Const 1) (c.Const 2)))) (c.Then (c.Return (Some (c.Temp 3))) c.End))))))))) }) (s.Then 1 (s.Set ([]) ([])) s.NoBlock (s.Then 2 (s.Set ([]) ([])) s.NoBlock (s.Then 3 (s.Set ([]) ((record { lines = ((line.Comb (((pos 1), 0) ∷ ((pos 1), 4) ∷ [])) ∷ []) }) ∷ (record { lines = ((line.Comb (((pos 1), 1) ∷ ((pos 1), 4) ∷ [])) ∷ []) }) ∷ (record { lines = ((line.Comb (((pos 1), 0) ∷ ((pos 1), 4) ∷ [])) ∷ []) }) ∷ (record { lines = ((line.Comb (((pos 1), 1) ∷ ((pos 1), 4) ∷ [])) ∷ []) }) ∷ [])) s.NoBlock (s.Then 4 (s.Set ([]) ((record { lines = ((line.Comb (((pos 1), 2) ∷ ((pos 1), 4) ∷ [])) ∷ []) }) ∷ (record { lines = ((line.Comb (((pos 1), 3) ∷ ((pos 1), 4) ∷ [])) ∷ []) }) ∷ [])) s.NoBlock (s.Then 5 (s.Set ([]) ([])) s.NoBlock (s.Then 6 (s.Set ([]) ([])) s.NoBlock (s.Then 7 (s.Absurd ([])) s.NoBlock s.End))))))) ≡ (RefusedAt 7 24 3)
unfolding computing
random_75 = refl

random_76 : body_verdict (record { predicates = ([]); specs = ((record { is_void = false; name = name_f; params = (name_n0 ∷ name_u1 ∷ name_n2 ∷ []); vars = ((name_a0, sort.Int) ∷ (name_b1, sort.Int) ∷ (name_a2, sort.Int) ∷ []); pre = (record { opened = []; facts = ((Rel relation.Le (Number (pos 0)) (Var 0 sort.Int)) ∷ (Rel relation.Le (Var 0 sort.Int) (Number (pos 9))) ∷ (Rel relation.Le (Number (pos 1)) (Var 2 sort.Int)) ∷ (Rel relation.Le (Var 2 sort.Int) (Number (pos 9))) ∷ []); locals = ((name_n0, (Of unary.Vi (Var 0 sort.Int))) ∷ (name_u1, (Of unary.Vi (Var 1 sort.Int))) ∷ (name_n2, (Of unary.Vi (Var 2 sort.Int))) ∷ []); items = ([]) }); post = (record { opened = []; facts = ([]); locals = []; items = ([]) }) }) ∷ (record { is_void = false; name = name_main; params = ([]); vars = []; pre = (record { opened = []; facts = ([]); locals = []; items = ([]) }); post = (record { opened = []; facts = ((Rel relation.Eq (Var 0 sort.Val) (Of unary.Vi (Number (pos 0)))) ∷ []); locals = []; items = ([]) }) }) ∷ []) }) (record { is_void = false; name = name_f; params = (name_n0 ∷ name_u1 ∷ name_n2 ∷ []); vars = ((name_a0, sort.Int) ∷ (name_b1, sort.Int) ∷ (name_a2, sort.Int) ∷ []); pre = (record { opened = []; facts = ((Rel relation.Le (Number (pos 0)) (Var 0 sort.Int)) ∷ (Rel relation.Le (Var 0 sort.Int) (Number (pos 9))) ∷ (Rel relation.Le (Number (pos 1)) (Var 2 sort.Int)) ∷ (Rel relation.Le (Var 2 sort.Int) (Number (pos 9))) ∷ []); locals = ((name_n0, (Of unary.Vi (Var 0 sort.Int))) ∷ (name_u1, (Of unary.Vi (Var 1 sort.Int))) ∷ (name_n2, (Of unary.Vi (Var 2 sort.Int))) ∷ []); items = ([]) }); post = (record { opened = []; facts = ([]); locals = []; items = ([]) }) }) (record { temps = (name_n0 ∷ name_u1 ∷ name_n2 ∷ name_s ∷ name_t ∷ name_i ∷ name_x1 ∷ name_d0 ∷ name_p1 ∷ name_q1 ∷ []); body = (c.Then (c.Set 3 (c.Const 2)) (c.Then (c.Set 4 (c.Const 1)) (c.Then (c.Set 3 (c.Binary two.Add kind.Signed (c.Temp 0) (c.Const 2))) (c.Then (c.Set 3 (c.Binary two.Eq kind.Signed (c.Temp 2) (c.Const 1))) (c.Then (c.Set 3 (c.Temp 3)) (c.Then (c.Set 6 (c.Binary two.And kind.Unsigned (c.Const 5) (c.Const 3))) (c.Then (c.Set 3 (c.Binary two.Add kind.Signed (c.Temp 4) (c.Temp 3))) (c.Then (c.Set 4 (c.Binary two.Lt kind.Signed (c.Binary two.Add kind.Signed (c.Const 3) (c.Const 2)) (c.Binary two.Add kind.Signed (c.Const 1) (c.Const 2)))) (c.Then (c.Return (Some (c.Temp 3))) c.End))))))))) }) (s.Then 1 (s.Set ([]) ([])) s.NoBlock (s.Then 2 (s.Set ([]) ([])) s.NoBlock (s.Then 3 (s.Set ([]) ([])) s.NoBlock (s.Then 4 (s.Set ([]) ((record { lines = ((line.Comb (((pos 1), 0) ∷ ((pos 1), 4) ∷ [])) ∷ []) }) ∷ (record { lines = ((line.Comb (((pos 1), 1) ∷ ((pos 1), 4) ∷ [])) ∷ []) }) ∷ (record { lines = ((line.Comb (((pos 1), 0) ∷ ((pos 1), 4) ∷ [])) ∷ []) }) ∷ (record { lines = ((line.Comb (((pos 1), 1) ∷ ((pos 1), 4) ∷ [])) ∷ []) }) ∷ [])) s.NoBlock (s.Then 5 (s.Set ([]) ((record { lines = ((line.Comb (((pos 1), 2) ∷ ((pos 1), 4) ∷ [])) ∷ []) }) ∷ (record { lines = ((line.Comb (((pos 1), 3) ∷ ((pos 1), 4) ∷ [])) ∷ []) }) ∷ [])) s.NoBlock (s.Then 6 (s.Set ([]) ([])) s.NoBlock (s.Then 7 (s.Set ([]) ([])) s.NoBlock (s.Then 8 (s.Rewrite false 0 (occurrence.Prop 1)) s.NoBlock (s.Then 9 (s.Set ([]) ([])) s.NoBlock s.End))))))))) ≡ (RefusedAt 3 2 3)
unfolding computing
random_76 = refl

random_77 : body_verdict (record { predicates = ([]); specs = ((record { is_void = false; name = name_f; params = (name_n0 ∷ name_u1 ∷ name_n2 ∷ []); vars = ((name_a0, sort.Int) ∷ (name_b1, sort.Int) ∷ (name_a2, sort.Int) ∷ []); pre = (record { opened = []; facts = ((Rel relation.Le (Number (pos 0)) (Var 0 sort.Int)) ∷ (Rel relation.Le (Var 0 sort.Int) (Number (pos 9))) ∷ (Rel relation.Le (Number (pos 1)) (Var 2 sort.Int)) ∷ (Rel relation.Le (Var 2 sort.Int) (Number (pos 9))) ∷ []); locals = ((name_n0, (Of unary.Vi (Var 0 sort.Int))) ∷ (name_u1, (Of unary.Vi (Var 1 sort.Int))) ∷ (name_n2, (Of unary.Vi (Var 2 sort.Int))) ∷ []); items = ([]) }); post = (record { opened = []; facts = ([]); locals = []; items = ([]) }) }) ∷ (record { is_void = false; name = name_main; params = ([]); vars = []; pre = (record { opened = []; facts = ([]); locals = []; items = ([]) }); post = (record { opened = []; facts = ((Rel relation.Eq (Var 0 sort.Val) (Of unary.Vi (Number (pos 0)))) ∷ []); locals = []; items = ([]) }) }) ∷ []) }) (record { is_void = false; name = name_f; params = (name_n0 ∷ name_u1 ∷ name_n2 ∷ []); vars = ((name_a0, sort.Int) ∷ (name_b1, sort.Int) ∷ (name_a2, sort.Int) ∷ []); pre = (record { opened = []; facts = ((Rel relation.Le (Number (pos 0)) (Var 0 sort.Int)) ∷ (Rel relation.Le (Var 0 sort.Int) (Number (pos 9))) ∷ (Rel relation.Le (Number (pos 1)) (Var 2 sort.Int)) ∷ (Rel relation.Le (Var 2 sort.Int) (Number (pos 9))) ∷ []); locals = ((name_n0, (Of unary.Vi (Var 0 sort.Int))) ∷ (name_u1, (Of unary.Vi (Var 1 sort.Int))) ∷ (name_n2, (Of unary.Vi (Var 2 sort.Int))) ∷ []); items = ([]) }); post = (record { opened = []; facts = ([]); locals = []; items = ([]) }) }) (record { temps = (name_n0 ∷ name_u1 ∷ name_n2 ∷ name_s ∷ name_t ∷ name_i ∷ name_x1 ∷ name_d0 ∷ name_p1 ∷ name_q1 ∷ []); body = (c.Then (c.Set 3 (c.Const 2)) (c.Then (c.Set 4 (c.Const 5)) (c.Then (c.Set 3 (c.Binary two.Add kind.Signed (c.Temp 0) (c.Const 2))) (c.Then (c.Set 3 (c.Binary two.Eq kind.Signed (c.Temp 2) (c.Const 1))) (c.Then (c.Set 3 (c.Temp 3)) (c.Then (c.Set 6 (c.Binary two.And kind.Unsigned (c.Const 5) (c.Const 3))) (c.Then (c.Set 3 (c.Binary two.Add kind.Signed (c.Temp 4) (c.Temp 3))) (c.Then (c.Set 4 (c.Binary two.Lt kind.Signed (c.Binary two.Add kind.Signed (c.Const 3) (c.Const 2)) (c.Binary two.Add kind.Signed (c.Const 1) (c.Const 2)))) (c.Then (c.Return (Some (c.Temp 3))) c.End))))))))) }) (s.Then 1 (s.Set ([]) ([])) s.NoBlock (s.Then 2 (s.Set ([]) ([])) s.NoBlock (s.Then 3 (s.Set ([]) ((record { lines = ((line.Comb (((pos 1), 0) ∷ ((pos 1), 4) ∷ [])) ∷ []) }) ∷ (record { lines = ((line.Comb (((pos 1), 1) ∷ ((pos 1), 4) ∷ [])) ∷ []) }) ∷ (record { lines = ((line.Comb (((pos 1), 0) ∷ ((pos 1), 4) ∷ [])) ∷ []) }) ∷ (record { lines = ((line.Comb (((pos 1), 1) ∷ ((pos 1), 4) ∷ [])) ∷ []) }) ∷ [])) s.NoBlock (s.Then 4 (s.Set ([]) ((record { lines = ((line.Comb (((pos 1), 2) ∷ ((pos 1), 4) ∷ [])) ∷ []) }) ∷ (record { lines = ((line.Comb (((pos 1), 3) ∷ ((pos 1), 4) ∷ [])) ∷ []) }) ∷ [])) s.NoBlock (s.Then 5 (s.Set ([]) ([])) s.NoBlock (s.Then 6 (s.Set ([]) ([])) s.NoBlock (s.Then 7 (s.Set ([]) ([])) s.NoBlock s.End))))))) ≡ (RefusedAt 7 2 3)
unfolding computing
random_77 = refl

random_78 : body_verdict (record { predicates = ([]); specs = ((record { is_void = false; name = name_f; params = (name_n0 ∷ name_u1 ∷ name_n2 ∷ []); vars = ((name_a0, sort.Int) ∷ (name_b1, sort.Int) ∷ (name_a2, sort.Int) ∷ []); pre = (record { opened = []; facts = ((Rel relation.Le (Number (pos 0)) (Var 0 sort.Int)) ∷ (Rel relation.Le (Var 0 sort.Int) (Number (pos 9))) ∷ (Rel relation.Le (Number (pos 2)) (Var 2 sort.Int)) ∷ (Rel relation.Le (Var 2 sort.Int) (Number (pos 9))) ∷ []); locals = ((name_n0, (Of unary.Vi (Var 0 sort.Int))) ∷ (name_u1, (Of unary.Vi (Var 1 sort.Int))) ∷ (name_n2, (Of unary.Vi (Var 2 sort.Int))) ∷ []); items = ([]) }); post = (record { opened = []; facts = ([]); locals = []; items = ([]) }) }) ∷ (record { is_void = false; name = name_main; params = ([]); vars = []; pre = (record { opened = []; facts = ([]); locals = []; items = ([]) }); post = (record { opened = []; facts = ((Rel relation.Eq (Var 0 sort.Val) (Of unary.Vi (Number (pos 0)))) ∷ []); locals = []; items = ([]) }) }) ∷ []) }) (record { is_void = false; name = name_f; params = (name_n0 ∷ name_u1 ∷ name_n2 ∷ []); vars = ((name_a0, sort.Int) ∷ (name_b1, sort.Int) ∷ (name_a2, sort.Int) ∷ []); pre = (record { opened = []; facts = ((Rel relation.Le (Number (pos 0)) (Var 0 sort.Int)) ∷ (Rel relation.Le (Var 0 sort.Int) (Number (pos 9))) ∷ (Rel relation.Le (Number (pos 2)) (Var 2 sort.Int)) ∷ (Rel relation.Le (Var 2 sort.Int) (Number (pos 9))) ∷ []); locals = ((name_n0, (Of unary.Vi (Var 0 sort.Int))) ∷ (name_u1, (Of unary.Vi (Var 1 sort.Int))) ∷ (name_n2, (Of unary.Vi (Var 2 sort.Int))) ∷ []); items = ([]) }); post = (record { opened = []; facts = ([]); locals = []; items = ([]) }) }) (record { temps = (name_n0 ∷ name_u1 ∷ name_n2 ∷ name_s ∷ name_t ∷ name_i ∷ name_x1 ∷ name_d0 ∷ name_p1 ∷ name_q1 ∷ []); body = (c.Then (c.Set 3 (c.Const 2)) (c.Then (c.Set 4 (c.Const 1)) (c.Then (c.Set 3 (c.Binary two.Add kind.Signed (c.Temp 0) (c.Const 2))) (c.Then (c.Set 3 (c.Binary two.Eq kind.Signed (c.Temp 2) (c.Const 1))) (c.Then (c.Set 3 (c.Temp 3)) (c.Then (c.Set 6 (c.Binary two.And kind.Unsigned (c.Const 5) (c.Const 3))) (c.Then (c.Set 3 (c.Binary two.Add kind.Signed (c.Temp 4) (c.Temp 3))) (c.Then (c.Set 4 (c.Binary two.Lt kind.Signed (c.Binary two.Add kind.Signed (c.Const 3) (c.Const 2)) (c.Binary two.Add kind.Signed (c.Const 1) (c.Const 2)))) (c.Then (c.Return (Some (c.Temp 3))) c.End))))))))) }) (s.Then 1 (s.Set ([]) ([])) s.NoBlock (s.Then 2 (s.Set ([]) ([])) s.NoBlock (s.Then 3 (s.Set ([]) ((record { lines = ((line.Comb (((pos 1), 0) ∷ ((pos 1), 4) ∷ [])) ∷ []) }) ∷ (record { lines = ((line.Comb (((pos 1), 1) ∷ ((pos 1), 4) ∷ [])) ∷ []) }) ∷ (record { lines = ((line.Comb (((pos 1), 0) ∷ ((pos 1), 4) ∷ [])) ∷ []) }) ∷ (record { lines = ((line.Comb (((pos 1), 1) ∷ ((pos 1), 4) ∷ [])) ∷ []) }) ∷ [])) s.NoBlock (s.Then 4 (s.Set ([]) ((record { lines = ((line.Comb (((pos 1), 2) ∷ ((pos 1), 4) ∷ [])) ∷ []) }) ∷ (record { lines = ((line.Comb (((pos 1), 3) ∷ ((pos 1), 4) ∷ [])) ∷ []) }) ∷ [])) s.NoBlock (s.Then 5 (s.Set ([]) ([])) s.NoBlock (s.Then 6 (s.Set ([]) ([])) s.NoBlock (s.Then 7 (s.Set ([]) ([])) s.NoBlock s.End))))))) ≡ (RefusedAt 7 2 3)
unfolding computing
random_78 = refl

random_79 : body_verdict (record { predicates = ([]); specs = ((record { is_void = false; name = name_f; params = (name_n0 ∷ name_u1 ∷ name_n2 ∷ []); vars = ((name_a0, sort.Int) ∷ (name_b1, sort.Int) ∷ (name_a2, sort.Int) ∷ []); pre = (record { opened = []; facts = ((Rel relation.Le (Number (pos 0)) (Var 0 sort.Int)) ∷ (Rel relation.Le (Var 0 sort.Int) (Number (pos 9))) ∷ (Rel relation.Le (Number (pos 2)) (Var 2 sort.Int)) ∷ (Rel relation.Le (Var 2 sort.Int) (Number (pos 9))) ∷ []); locals = ((name_n0, (Of unary.Vi (Var 0 sort.Int))) ∷ (name_u1, (Of unary.Vi (Var 1 sort.Int))) ∷ (name_n2, (Of unary.Vi (Var 2 sort.Int))) ∷ []); items = ([]) }); post = (record { opened = []; facts = ([]); locals = []; items = ([]) }) }) ∷ (record { is_void = false; name = name_main; params = ([]); vars = []; pre = (record { opened = []; facts = ([]); locals = []; items = ([]) }); post = (record { opened = []; facts = ((Rel relation.Eq (Var 0 sort.Val) (Of unary.Vi (Number (pos 0)))) ∷ []); locals = []; items = ([]) }) }) ∷ []) }) (record { is_void = false; name = name_main; params = ([]); vars = []; pre = (record { opened = []; facts = ([]); locals = []; items = ([]) }); post = (record { opened = []; facts = ((Rel relation.Eq (Var 0 sort.Val) (Of unary.Vi (Number (pos 0)))) ∷ []); locals = []; items = ([]) }) }) (record { temps = ([]); body = (c.Then (c.Return (Some (c.Const 0))) c.End) }) (s.Then 1 (s.Return ([]) ([]) ([])) s.NoBlock s.End) ≡ Accepted
unfolding computing
random_79 = refl

random_80 : body_verdict (record { predicates = ([]); specs = ((record { is_void = false; name = name_f; params = (name_n0 ∷ name_u1 ∷ name_n2 ∷ []); vars = ((name_a0, sort.Int) ∷ (name_b1, sort.Int) ∷ (name_a2, sort.Int) ∷ []); pre = (record { opened = []; facts = ((Rel relation.Le (Number (pos 0)) (Var 0 sort.Int)) ∷ (Rel relation.Le (Var 0 sort.Int) (Number (pos 9))) ∷ (Rel relation.Le (Number (pos 1)) (Var 2 sort.Int)) ∷ (Rel relation.Le (Var 2 sort.Int) (Number (pos 9))) ∷ []); locals = ((name_n0, (Of unary.Vi (Var 0 sort.Int))) ∷ (name_u1, (Of unary.Vi (Var 1 sort.Int))) ∷ (name_n2, (Of unary.Vi (Var 2 sort.Int))) ∷ []); items = ([]) }); post = (record { opened = []; facts = ([]); locals = []; items = ([]) }) }) ∷ (record { is_void = false; name = name_main; params = ([]); vars = []; pre = (record { opened = []; facts = ([]); locals = []; items = ([]) }); post = (record { opened = []; facts = ((Rel relation.Eq (Var 0 sort.Val) (Of unary.Vi (Number (pos 0)))) ∷ []); locals = []; items = ([]) }) }) ∷ []) }) (record { is_void = false; name = name_f; params = (name_n0 ∷ name_u1 ∷ name_n2 ∷ []); vars = ((name_a0, sort.Int) ∷ (name_b1, sort.Int) ∷ (name_a2, sort.Int) ∷ []); pre = (record { opened = []; facts = ((Rel relation.Le (Number (pos 0)) (Var 0 sort.Int)) ∷ (Rel relation.Le (Var 0 sort.Int) (Number (pos 9))) ∷ (Rel relation.Le (Number (pos 1)) (Var 2 sort.Int)) ∷ (Rel relation.Le (Var 2 sort.Int) (Number (pos 9))) ∷ []); locals = ((name_n0, (Of unary.Vi (Var 0 sort.Int))) ∷ (name_u1, (Of unary.Vi (Var 1 sort.Int))) ∷ (name_n2, (Of unary.Vi (Var 2 sort.Int))) ∷ []); items = ([]) }); post = (record { opened = []; facts = ([]); locals = []; items = ([]) }) }) (record { temps = (name_n0 ∷ name_u1 ∷ name_n2 ∷ name_s ∷ name_t ∷ name_i ∷ name_x1 ∷ name_d0 ∷ name_p1 ∷ name_q1 ∷ []); body = (c.Then (c.Set 3 (c.Const 2)) (c.Then (c.Set 4 (c.Const 1)) (c.Then (c.Set 3 (c.Binary two.Add kind.Signed (c.Temp 0) (c.Const 2))) (c.Then (c.Set 3 (c.Binary two.Eq kind.Signed (c.Temp 2) (c.Const 1))) (c.Then (c.Set 3 (c.Temp 3)) (c.Then (c.Set 6 (c.Binary two.And kind.Unsigned (c.Const 5) (c.Const 3))) (c.Then (c.Set 3 (c.Binary two.Add kind.Signed (c.Temp 4) (c.Temp 3))) (c.Then (c.Set 4 (c.Binary two.Lt kind.Signed (c.Binary two.Add kind.Signed (c.Const 3) (c.Const 2)) (c.Binary two.Add kind.Signed (c.Const 1) (c.Const 2)))) (c.Then (c.Return (Some (c.Temp 3))) c.End))))))))) }) (s.Then 1 (s.Set ([]) ([])) s.NoBlock (s.Then 2 (s.Set ([]) ([])) s.NoBlock (s.Then 3 (s.Set ([]) ((record { lines = ((line.Comb (((pos 1), 0) ∷ ((pos 1), 4) ∷ [])) ∷ []) }) ∷ (record { lines = ((line.Comb (((pos 1), 1) ∷ ((pos 1), 4) ∷ [])) ∷ []) }) ∷ (record { lines = ((line.Comb (((pos 1), 0) ∷ ((pos 1), 4) ∷ [])) ∷ []) }) ∷ (record { lines = ((line.Comb (((pos 1), 1) ∷ ((pos 1), 4) ∷ [])) ∷ []) }) ∷ [])) s.NoBlock (s.Then 4 (s.Set ([]) ((record { lines = ((line.Comb (((pos 1), 2) ∷ ((pos 1), 4) ∷ [])) ∷ []) }) ∷ (record { lines = ((line.Comb (((pos 1), 3) ∷ ((pos 1), 0) ∷ [])) ∷ []) }) ∷ [])) s.NoBlock (s.Then 5 (s.Set ([]) ([])) s.NoBlock (s.Then 6 (s.Set ([]) ([])) s.NoBlock (s.Then 7 (s.Set ([]) ([])) s.NoBlock s.End))))))) ≡ (RefusedAt 4 2 3)
unfolding computing
random_80 = refl

random_81 : body_verdict (record { predicates = ([]); specs = ((record { is_void = false; name = name_main; params = ([]); vars = []; pre = (record { opened = []; facts = ([]); locals = []; items = ((Data (Number (pos 64)) (Global name_x) (Of2 binary.Cons (Of unary.Vi (Number (pos 3))) Nil)) ∷ (Data (Number (pos 64)) (Global name_g) (Of2 binary.Cons (Of unary.Vi (Number (pos 3))) Nil)) ∷ []) }); post = (record { opened = []; facts = ((Rel relation.Eq (Var 0 sort.Val) (Of unary.Vi (Number (pos 0)))) ∷ []); locals = []; items = ((Data (Number (pos 64)) (Global name_x) (Of2 binary.Cons (Of unary.Vi (Number (pos 3))) Nil)) ∷ (Data (Number (pos 64)) (Global name_g) (Of2 binary.Cons (Of unary.Vi (Number (pos 0))) Nil)) ∷ []) }) }) ∷ []) }) (record { is_void = false; name = name_main; params = ([]); vars = []; pre = (record { opened = []; facts = ([]); locals = []; items = ((Data (Number (pos 64)) (Global name_x) (Of2 binary.Cons (Of unary.Vi (Number (pos 3))) Nil)) ∷ (Data (Number (pos 64)) (Global name_g) (Of2 binary.Cons (Of unary.Vi (Number (pos 3))) Nil)) ∷ []) }); post = (record { opened = []; facts = ((Rel relation.Eq (Var 0 sort.Val) (Of unary.Vi (Number (pos 0)))) ∷ []); locals = []; items = ((Data (Number (pos 64)) (Global name_x) (Of2 binary.Cons (Of unary.Vi (Number (pos 3))) Nil)) ∷ (Data (Number (pos 64)) (Global name_g) (Of2 binary.Cons (Of unary.Vi (Number (pos 0))) Nil)) ∷ []) }) }) (record { temps = (name_s ∷ name_t ∷ name_i ∷ name_x1 ∷ name_d0 ∷ name_p1 ∷ name_q1 ∷ []); body = (c.Then (c.Set 0 (c.Const 2)) (c.Then (c.Set 1 (c.Const 1)) (c.Then (c.Store (root.Global name_g 1) c.Here (c.Const 0)) (c.Then (c.Return (Some (c.Const 0))) c.End)))) }) (s.Then 1 (s.Set ([]) ([])) s.NoBlock (s.Then 2 (s.Set ([]) ([])) s.NoBlock (s.Then 3 (s.Store 1 ([]) ([])) s.NoBlock (s.Then 4 (s.Apart 1 0 ([])) s.NoBlock (s.Then 5 (s.Bounds 0 None ([])) s.NoBlock (s.Then 6 (s.Return ([]) ([]) ([])) s.NoBlock s.End)))))) ≡ Accepted
unfolding computing
random_81 = refl

random_82 : body_verdict (record { predicates = ([]); specs = ((record { is_void = false; name = name_main; params = ([]); vars = []; pre = (record { opened = []; facts = ([]); locals = []; items = ((Data (Number (pos 64)) (Global name_x) (Of2 binary.Cons (Of unary.Vi (Number (pos 3))) Nil)) ∷ (Data (Number (pos 65)) (Global name_g) (Of2 binary.Cons (Of unary.Vi (Number (pos 3))) Nil)) ∷ []) }); post = (record { opened = []; facts = ((Rel relation.Eq (Var 0 sort.Val) (Of unary.Vi (Number (pos 0)))) ∷ []); locals = []; items = ((Data (Number (pos 64)) (Global name_x) (Of2 binary.Cons (Of unary.Vi (Number (pos 3))) Nil)) ∷ (Data (Number (pos 64)) (Global name_g) (Of2 binary.Cons (Of unary.Vi (Number (pos 0))) Nil)) ∷ []) }) }) ∷ []) }) (record { is_void = false; name = name_main; params = ([]); vars = []; pre = (record { opened = []; facts = ([]); locals = []; items = ((Data (Number (pos 64)) (Global name_x) (Of2 binary.Cons (Of unary.Vi (Number (pos 3))) Nil)) ∷ (Data (Number (pos 65)) (Global name_g) (Of2 binary.Cons (Of unary.Vi (Number (pos 3))) Nil)) ∷ []) }); post = (record { opened = []; facts = ((Rel relation.Eq (Var 0 sort.Val) (Of unary.Vi (Number (pos 0)))) ∷ []); locals = []; items = ((Data (Number (pos 64)) (Global name_x) (Of2 binary.Cons (Of unary.Vi (Number (pos 3))) Nil)) ∷ (Data (Number (pos 64)) (Global name_g) (Of2 binary.Cons (Of unary.Vi (Number (pos 0))) Nil)) ∷ []) }) }) (record { temps = (name_s ∷ name_t ∷ name_i ∷ name_x1 ∷ name_d0 ∷ name_p1 ∷ name_q1 ∷ []); body = (c.Then (c.Set 0 (c.Const 2)) (c.Then (c.Set 1 (c.Const 1)) (c.Then (c.Store (root.Global name_g 1) c.Here (c.Const 0)) (c.Then (c.Return (Some (c.Const 0))) c.End)))) }) (s.Then 1 (s.Set ([]) ([])) s.NoBlock (s.Then 2 (s.Set ([]) ([])) s.NoBlock (s.Then 3 (s.Store 1 ([]) ([])) s.NoBlock (s.Then 4 (s.Apart 1 0 ([])) s.NoBlock (s.Then 5 (s.Bounds 0 None ([])) s.NoBlock (s.Then 6 (s.Return ([]) ([]) ([])) s.NoBlock s.End)))))) ≡ (RefusedAt 6 9 5)
unfolding computing
random_82 = refl

random_83 : body_verdict (record { predicates = ([]); specs = ((record { is_void = false; name = name_main; params = ([]); vars = []; pre = (record { opened = []; facts = ([]); locals = []; items = ((Data (Number (pos 64)) (Global name_x) (Of2 binary.Cons (Of unary.Vi (Number (pos 3))) Nil)) ∷ (Data (Number (pos 64)) (Global name_g) (Of2 binary.Cons (Of unary.Vi (Number (pos 3))) Nil)) ∷ []) }); post = (record { opened = []; facts = ((Rel relation.Eq (Var 0 sort.Val) (Of unary.Vi (Number (pos 0)))) ∷ []); locals = []; items = ((Data (Number (pos 64)) (Global name_x) (Of2 binary.Cons (Of unary.Vi (Number (pos 3))) Nil)) ∷ (Data (Number (pos 64)) (Global name_g) (Of2 binary.Cons (Of unary.Vi (Number (pos 0))) Nil)) ∷ []) }) }) ∷ []) }) (record { is_void = false; name = name_main; params = ([]); vars = []; pre = (record { opened = []; facts = ([]); locals = []; items = ((Data (Number (pos 64)) (Global name_x) (Of2 binary.Cons (Of unary.Vi (Number (pos 3))) Nil)) ∷ (Data (Number (pos 64)) (Global name_g) (Of2 binary.Cons (Of unary.Vi (Number (pos 3))) Nil)) ∷ []) }); post = (record { opened = []; facts = ((Rel relation.Eq (Var 0 sort.Val) (Of unary.Vi (Number (pos 0)))) ∷ []); locals = []; items = ((Data (Number (pos 64)) (Global name_x) (Of2 binary.Cons (Of unary.Vi (Number (pos 3))) Nil)) ∷ (Data (Number (pos 64)) (Global name_g) (Of2 binary.Cons (Of unary.Vi (Number (pos 0))) Nil)) ∷ []) }) }) (record { temps = (name_s ∷ name_t ∷ name_i ∷ name_x1 ∷ name_d0 ∷ name_p1 ∷ name_q1 ∷ []); body = (c.Then (c.Set 0 (c.Const 2)) (c.Then (c.Set 1 (c.Const 1)) (c.Then (c.Store (root.Global name_g 1) c.Here (c.Const 0)) (c.Then (c.Return (Some (c.Const 0))) c.End)))) }) (s.Then 1 (s.Set ([]) ([])) s.NoBlock (s.Then 2 (s.Set ([]) ([])) s.NoBlock (s.Then 3 (s.Store 1 ([]) ([])) s.NoBlock (s.Then 4 (s.Apart 1 0 ([])) s.NoBlock (s.Then 5 (s.Set ([]) ([])) s.NoBlock (s.Then 6 (s.Bounds 0 None ([])) s.NoBlock (s.Then 7 (s.Return ([]) ([]) ([])) s.NoBlock s.End))))))) ≡ (RefusedAt 5 2 1)
unfolding computing
random_83 = refl

random_84 : body_verdict (record { predicates = ([]); specs = ((record { is_void = false; name = name_main; params = ([]); vars = []; pre = (record { opened = []; facts = ([]); locals = []; items = ((Data (Number (pos 64)) (Global name_x) (Of2 binary.Cons (Of unary.Vi (Number (pos 3))) Nil)) ∷ (Data (Number (pos 64)) (Global name_g) (Of2 binary.Cons (Of unary.Vi (Number (pos 2))) Nil)) ∷ []) }); post = (record { opened = []; facts = ((Rel relation.Eq (Var 0 sort.Val) (Of unary.Vi (Number (pos 0)))) ∷ []); locals = []; items = ((Data (Number (pos 64)) (Global name_x) (Of2 binary.Cons (Of unary.Vi (Number (pos 3))) Nil)) ∷ (Data (Number (pos 64)) (Global name_g) (Of2 binary.Cons (Of unary.Vi (Number (pos 0))) Nil)) ∷ []) }) }) ∷ []) }) (record { is_void = false; name = name_main; params = ([]); vars = []; pre = (record { opened = []; facts = ([]); locals = []; items = ((Data (Number (pos 64)) (Global name_x) (Of2 binary.Cons (Of unary.Vi (Number (pos 3))) Nil)) ∷ (Data (Number (pos 64)) (Global name_g) (Of2 binary.Cons (Of unary.Vi (Number (pos 2))) Nil)) ∷ []) }); post = (record { opened = []; facts = ((Rel relation.Eq (Var 0 sort.Val) (Of unary.Vi (Number (pos 0)))) ∷ []); locals = []; items = ((Data (Number (pos 64)) (Global name_x) (Of2 binary.Cons (Of unary.Vi (Number (pos 3))) Nil)) ∷ (Data (Number (pos 64)) (Global name_g) (Of2 binary.Cons (Of unary.Vi (Number (pos 0))) Nil)) ∷ []) }) }) (record { temps = (name_s ∷ name_t ∷ name_i ∷ name_x1 ∷ name_d0 ∷ name_p1 ∷ name_q1 ∷ []); body = (c.Then (c.Set 0 (c.Const 2)) (c.Then (c.Set 1 (c.Const 1)) (c.Then (c.Store (root.Global name_g 1) c.Here (c.Const 0)) (c.Then (c.Return (Some (c.Const 0))) c.End)))) }) (s.Then 1 (s.Set ([]) ([])) s.NoBlock (s.Then 2 (s.Set ([]) ([])) s.NoBlock (s.Then 3 (s.Store 1 ([]) ([])) s.NoBlock (s.Then 4 (s.Apart 1 0 ([])) s.NoBlock (s.Then 5 (s.Bounds 0 None ([])) s.NoBlock (s.Then 6 (s.Return ([]) ([]) ([])) s.NoBlock s.End)))))) ≡ Accepted
unfolding computing
random_84 = refl

random_85 : body_verdict (record { predicates = ([]); specs = ((record { is_void = false; name = name_main; params = ([]); vars = []; pre = (record { opened = []; facts = ([]); locals = []; items = ((Data (Number (pos 64)) (Global name_x) (Of2 binary.Cons (Of unary.Vi (Number (pos 3))) Nil)) ∷ (Data (Number (pos 64)) (Global name_g) (Of2 binary.Cons (Of unary.Vi (Number (pos 3))) Nil)) ∷ []) }); post = (record { opened = []; facts = ((Rel relation.Eq (Var 0 sort.Val) (Of unary.Vi (Number (pos 0)))) ∷ []); locals = []; items = ((Data (Number (pos 64)) (Global name_x) (Of2 binary.Cons (Of unary.Vi (Number (pos 3))) Nil)) ∷ (Data (Number (pos 64)) (Global name_g) (Of2 binary.Cons (Of unary.Vi (Number (pos 0))) Nil)) ∷ []) }) }) ∷ []) }) (record { is_void = false; name = name_main; params = ([]); vars = []; pre = (record { opened = []; facts = ([]); locals = []; items = ((Data (Number (pos 64)) (Global name_x) (Of2 binary.Cons (Of unary.Vi (Number (pos 3))) Nil)) ∷ (Data (Number (pos 64)) (Global name_g) (Of2 binary.Cons (Of unary.Vi (Number (pos 3))) Nil)) ∷ []) }); post = (record { opened = []; facts = ((Rel relation.Eq (Var 0 sort.Val) (Of unary.Vi (Number (pos 0)))) ∷ []); locals = []; items = ((Data (Number (pos 64)) (Global name_x) (Of2 binary.Cons (Of unary.Vi (Number (pos 3))) Nil)) ∷ (Data (Number (pos 64)) (Global name_g) (Of2 binary.Cons (Of unary.Vi (Number (pos 0))) Nil)) ∷ []) }) }) (record { temps = (name_s ∷ name_t ∷ name_i ∷ name_x1 ∷ name_d0 ∷ name_p1 ∷ name_q1 ∷ []); body = (c.Then (c.Set 0 (c.Const 2)) (c.Then (c.Set 1 (c.Const 1)) (c.Then (c.Store (root.Global name_g 1) c.Here (c.Const 0)) (c.Then (c.Return (Some (c.Const 0))) c.End)))) }) (s.Then 1 (s.Set ([]) ([])) s.NoBlock (s.Then 2 (s.Set ([]) ([])) s.NoBlock (s.Then 3 (s.Set ([]) ([])) s.NoBlock (s.Then 4 (s.Bounds 0 None ([])) s.NoBlock (s.Then 5 (s.Apart 1 0 ([])) s.NoBlock (s.Then 6 (s.Bounds 0 None ([])) s.NoBlock (s.Then 7 (s.Return ([]) ([]) ([])) s.NoBlock s.End))))))) ≡ (RefusedAt 3 2 1)
unfolding computing
random_85 = refl

random_86 : body_verdict (record { predicates = ([]); specs = ((record { is_void = false; name = name_main; params = ([]); vars = []; pre = (record { opened = []; facts = ([]); locals = []; items = ((Data (Number (pos 64)) (Global name_x) (Of2 binary.Cons (Of unary.Vi (Number (pos 3))) Nil)) ∷ (Data (Number (pos 64)) (Global name_g) (Of2 binary.Cons (Of unary.Vi (Number (pos 3))) Nil)) ∷ []) }); post = (record { opened = []; facts = ((Rel relation.Eq (Var 0 sort.Val) (Of unary.Vi (Number (pos 0)))) ∷ []); locals = []; items = ((Data (Number (pos 64)) (Global name_x) (Of2 binary.Cons (Of unary.Vi (Number (pos 3))) Nil)) ∷ (Data (Number (pos 64)) (Global name_g) (Of2 binary.Cons (Of unary.Vi (Number (pos 0))) Nil)) ∷ []) }) }) ∷ []) }) (record { is_void = false; name = name_main; params = ([]); vars = []; pre = (record { opened = []; facts = ([]); locals = []; items = ((Data (Number (pos 64)) (Global name_x) (Of2 binary.Cons (Of unary.Vi (Number (pos 3))) Nil)) ∷ (Data (Number (pos 64)) (Global name_g) (Of2 binary.Cons (Of unary.Vi (Number (pos 3))) Nil)) ∷ []) }); post = (record { opened = []; facts = ((Rel relation.Eq (Var 0 sort.Val) (Of unary.Vi (Number (pos 0)))) ∷ []); locals = []; items = ((Data (Number (pos 64)) (Global name_x) (Of2 binary.Cons (Of unary.Vi (Number (pos 3))) Nil)) ∷ (Data (Number (pos 64)) (Global name_g) (Of2 binary.Cons (Of unary.Vi (Number (pos 0))) Nil)) ∷ []) }) }) (record { temps = (name_s ∷ name_t ∷ name_i ∷ name_x1 ∷ name_d0 ∷ name_p1 ∷ name_q1 ∷ []); body = (c.Then (c.Set 0 (c.Const 2)) (c.Then (c.Set 1 (c.Const 1)) (c.Then (c.Store (root.Global name_g 1) c.Here (c.Const 0)) (c.Then (c.Return (Some (c.Const 0))) c.End)))) }) (s.Then 1 (s.Share 0 (Number (pos 32)) ([])) s.NoBlock (s.Then 2 (s.Set ([]) ([])) s.NoBlock (s.Then 3 (s.Set ([]) ([])) s.NoBlock (s.Then 4 (s.Store 1 ([]) ([])) s.NoBlock (s.Then 5 (s.Apart 1 0 ([])) s.NoBlock (s.Then 6 (s.Bounds 0 None ([])) s.NoBlock (s.Then 7 (s.Return ([]) ([]) ([])) s.NoBlock s.End))))))) ≡ (RefusedAt 4 4 1)
unfolding computing
random_86 = refl

random_87 : body_verdict (record { predicates = ([]); specs = ((record { is_void = false; name = name_main; params = ([]); vars = []; pre = (record { opened = []; facts = ([]); locals = []; items = ((Data (Number (pos 64)) (Global name_x) (Of2 binary.Cons (Of unary.Vi (Number (pos 3))) Nil)) ∷ (Data (Number (pos 64)) (Global name_g) (Of2 binary.Cons (Of unary.Vi (Number (pos 3))) Nil)) ∷ []) }); post = (record { opened = []; facts = ((Rel relation.Eq (Var 0 sort.Val) (Of unary.Vi (Number (pos 0)))) ∷ []); locals = []; items = ((Data (Number (pos 64)) (Global name_x) (Of2 binary.Cons (Of unary.Vi (Number (pos 3))) Nil)) ∷ (Data (Number (pos 64)) (Global name_g) (Of2 binary.Cons (Of unary.Vi (Number (pos 0))) Nil)) ∷ []) }) }) ∷ []) }) (record { is_void = false; name = name_main; params = ([]); vars = []; pre = (record { opened = []; facts = ([]); locals = []; items = ((Data (Number (pos 64)) (Global name_x) (Of2 binary.Cons (Of unary.Vi (Number (pos 3))) Nil)) ∷ (Data (Number (pos 64)) (Global name_g) (Of2 binary.Cons (Of unary.Vi (Number (pos 3))) Nil)) ∷ []) }); post = (record { opened = []; facts = ((Rel relation.Eq (Var 0 sort.Val) (Of unary.Vi (Number (pos 0)))) ∷ []); locals = []; items = ((Data (Number (pos 64)) (Global name_x) (Of2 binary.Cons (Of unary.Vi (Number (pos 3))) Nil)) ∷ (Data (Number (pos 64)) (Global name_g) (Of2 binary.Cons (Of unary.Vi (Number (pos 0))) Nil)) ∷ []) }) }) (record { temps = (name_s ∷ name_t ∷ name_i ∷ name_x1 ∷ name_d0 ∷ name_p1 ∷ name_q1 ∷ []); body = (c.Then (c.Set 0 (c.Const 2)) (c.Then (c.Set 1 (c.Const 1)) (c.Then (c.Store (root.Global name_g 1) c.Here (c.Const 0)) (c.Then (c.Return (Some (c.Const 0))) c.End)))) }) (s.Then 1 (s.Set ([]) ([])) s.NoBlock (s.Then 2 (s.Block 0 (record { opened = []; facts = ([]); locals = []; items = ([]) }) ([]) ([])) (s.WithBlock s.End s.NoBlock) (s.Then 3 (s.Store 1 ([]) ([])) s.NoBlock (s.Then 4 (s.Apart 1 0 ([])) s.NoBlock (s.Then 5 (s.Bounds 0 None ([])) s.NoBlock (s.Then 6 (s.Return ([]) ([]) ([])) s.NoBlock s.End)))))) ≡ (RefusedAt 3 0 10)
unfolding computing
random_87 = refl

random_88 : body_verdict (record { predicates = ((record { name = name_E; args = ([]); cases = ((record { opened = []; facts = ([]); locals = []; items = ([]) }) ∷ []) }) ∷ []); specs = ((record { is_void = true; name = name_f; params = (name_r0 ∷ name_n1 ∷ []); vars = ((name_e0, sort.Val) ∷ (name_l0, sort.List) ∷ (name_a1, sort.Int) ∷ []); pre = (record { opened = []; facts = ((Rel relation.Eq (Of unary.Len (Var 1 sort.List)) (Number (pos 1))) ∷ []); locals = ((name_r0, (Var 0 sort.Val)) ∷ (name_n1, (Of unary.Vi (Var 2 sort.Int))) ∷ []); items = ((Data (Number (pos 64)) (Var 0 sort.Val) (Var 1 sort.List)) ∷ []) }); post = (record { opened = []; facts = ([]); locals = []; items = ((Data (Number (pos 64)) (Var 0 sort.Val) (Var 1 sort.List)) ∷ []) }) }) ∷ (record { is_void = false; name = name_main; params = ([]); vars = []; pre = (record { opened = []; facts = ([]); locals = []; items = ([]) }); post = (record { opened = []; facts = ((Rel relation.Eq (Var 0 sort.Val) (Of unary.Vi (Number (pos 0)))) ∷ []); locals = []; items = ([]) }) }) ∷ []) }) (record { is_void = true; name = name_f; params = (name_r0 ∷ name_n1 ∷ []); vars = ((name_e0, sort.Val) ∷ (name_l0, sort.List) ∷ (name_a1, sort.Int) ∷ []); pre = (record { opened = []; facts = ((Rel relation.Eq (Of unary.Len (Var 1 sort.List)) (Number (pos 1))) ∷ []); locals = ((name_r0, (Var 0 sort.Val)) ∷ (name_n1, (Of unary.Vi (Var 2 sort.Int))) ∷ []); items = ((Data (Number (pos 64)) (Var 0 sort.Val) (Var 1 sort.List)) ∷ []) }); post = (record { opened = []; facts = ([]); locals = []; items = ((Data (Number (pos 64)) (Var 0 sort.Val) (Var 1 sort.List)) ∷ []) }) }) (record { temps = (name_r0 ∷ name_n1 ∷ name_s ∷ name_t ∷ name_i ∷ name_x1 ∷ name_d0 ∷ name_p1 ∷ name_q1 ∷ []); body = (c.Then (c.Set 2 (c.Const 3)) (c.Then (c.Set 3 (c.Const 2)) (c.Then (c.Load 2 (root.Temp 0) (c.Index kind.Signed (c.Const 0) c.Here)) (c.Then (c.Set 5 (c.Binary two.Mul kind.Unsigned (c.Const 3) (c.Const 5))) (c.Then (c.Malloc 7 3) (c.Then (c.If (c.Pointers (c.Temp 7) (c.Const 0) true) (c.Then (c.Return None) c.End) c.End) (c.Then (c.Store (root.Temp 7) (c.Offset 0 c.Here) (c.Temp 3)) (c.Then (c.Load 3 (root.Temp 7) (c.Offset 0 c.Here)) (c.Then (c.Free (c.Temp 7)) c.End))))))))) }) (s.Then 1 (s.Set ([]) ([])) s.NoBlock (s.Then 2 (s.Set ([]) ([])) s.NoBlock (s.Then 3 (s.Load 0 ([]) ((record { lines = ((line.Comb (((pos 1), 1) ∷ ((pos 1), 2) ∷ [])) ∷ []) }) ∷ [])) s.NoBlock (s.Then 4 (s.Set ([]) ([])) s.NoBlock (s.Then 5 (s.Malloc name_k1 ([]) ([])) (s.WithBlock (s.Then 6 (s.If ([]) ([]) ([]) ([])) (s.WithBlock (s.Then 7 (s.Return ([]) ([]) ([])) s.NoBlock s.End) (s.WithBlock (s.Then 8 (s.Absurd ([])) s.NoBlock s.End) s.NoBlock)) s.End) (s.WithBlock (s.Then 9 (s.If (1 ∷ []) ([]) ([]) ([])) (s.WithBlock (s.Then 10 (s.Subst name_k1) s.NoBlock (s.Then 11 (s.Absurd ([])) s.NoBlock s.End)) (s.WithBlock (s.Then 12 (s.Store 0 ([]) ([])) s.NoBlock (s.Then 13 (s.Load 1 ([]) ([])) s.NoBlock (s.Then 14 (s.Free 1 2 ([])) s.NoBlock (s.Then 15 (s.Fall ([]) ([])) s.NoBlock s.End)))) s.NoBlock)) s.End) s.NoBlock)) s.End))))) ≡ (RefusedAt 12 4 1)
unfolding computing
random_88 = refl

random_89 : body_verdict (record { predicates = ((record { name = name_E; args = ([]); cases = ((record { opened = []; facts = ([]); locals = []; items = ([]) }) ∷ []) }) ∷ []); specs = ((record { is_void = true; name = name_f; params = (name_r0 ∷ name_n1 ∷ []); vars = ((name_e0, sort.Val) ∷ (name_l0, sort.List) ∷ (name_a1, sort.Int) ∷ []); pre = (record { opened = []; facts = ((Rel relation.Eq (Of unary.Len (Var 1 sort.List)) (Number (pos 1))) ∷ []); locals = ((name_r0, (Var 0 sort.Val)) ∷ (name_n1, (Of unary.Vi (Var 2 sort.Int))) ∷ []); items = ((Data (Number (pos 64)) (Var 0 sort.Val) (Var 1 sort.List)) ∷ []) }); post = (record { opened = []; facts = ([]); locals = []; items = ((Data (Number (pos 64)) (Var 0 sort.Val) (Var 1 sort.List)) ∷ []) }) }) ∷ (record { is_void = false; name = name_main; params = ([]); vars = []; pre = (record { opened = []; facts = ([]); locals = []; items = ([]) }); post = (record { opened = []; facts = ((Rel relation.Eq (Var 0 sort.Val) (Of unary.Vi (Number (pos 0)))) ∷ []); locals = []; items = ([]) }) }) ∷ []) }) (record { is_void = true; name = name_f; params = (name_r0 ∷ name_n1 ∷ []); vars = ((name_e0, sort.Val) ∷ (name_l0, sort.List) ∷ (name_a1, sort.Int) ∷ []); pre = (record { opened = []; facts = ((Rel relation.Eq (Of unary.Len (Var 1 sort.List)) (Number (pos 1))) ∷ []); locals = ((name_r0, (Var 0 sort.Val)) ∷ (name_n1, (Of unary.Vi (Var 2 sort.Int))) ∷ []); items = ((Data (Number (pos 64)) (Var 0 sort.Val) (Var 1 sort.List)) ∷ []) }); post = (record { opened = []; facts = ([]); locals = []; items = ((Data (Number (pos 64)) (Var 0 sort.Val) (Var 1 sort.List)) ∷ []) }) }) (record { temps = (name_r0 ∷ name_n1 ∷ name_s ∷ name_t ∷ name_i ∷ name_x1 ∷ name_d0 ∷ name_p1 ∷ name_q1 ∷ []); body = (c.Then (c.Set 2 (c.Const 3)) (c.Then (c.Set 3 (c.Const 2)) (c.Then (c.Load 2 (root.Temp 0) (c.Index kind.Signed (c.Const 0) c.Here)) (c.Then (c.Set 5 (c.Binary two.Mul kind.Unsigned (c.Const 3) (c.Const 5))) (c.Then (c.Malloc 7 3) (c.Then (c.If (c.Pointers (c.Temp 7) (c.Const 0) true) (c.Then (c.Return None) c.End) c.End) (c.Then (c.Store (root.Temp 7) (c.Offset 0 c.Here) (c.Temp 3)) (c.Then (c.Load 3 (root.Temp 7) (c.Offset 0 c.Here)) (c.Then (c.Free (c.Temp 7)) c.End))))))))) }) (s.Then 1 (s.Set ([]) ([])) s.NoBlock (s.Then 2 (s.Set ([]) ([])) s.NoBlock (s.Then 3 (s.Load 0 ([]) ((record { lines = ((line.Comb (((pos 1), 1) ∷ ((pos 1), 2) ∷ [])) ∷ []) }) ∷ [])) s.NoBlock (s.Then 4 (s.Malloc name_k1 ([]) ([])) (s.WithBlock (s.Then 5 (s.If ([]) ([]) ([]) ([])) (s.WithBlock (s.Then 6 (s.Return ([]) ([]) ([])) s.NoBlock s.End) (s.WithBlock (s.Then 7 (s.Absurd ([])) s.NoBlock s.End) s.NoBlock)) s.End) (s.WithBlock (s.Then 8 (s.If (1 ∷ []) ([]) ([]) ([])) (s.WithBlock (s.Then 9 (s.Subst name_k1) s.NoBlock (s.Then 10 (s.Absurd ([])) s.NoBlock s.End)) (s.WithBlock (s.Then 11 (s.Store 1 ([]) ([])) s.NoBlock (s.Then 12 (s.Load 1 ([]) ([])) s.NoBlock (s.Then 13 (s.Free 1 2 ([])) s.NoBlock (s.Then 14 (s.Fall ([]) ([])) s.NoBlock s.End)))) s.NoBlock)) s.End) s.NoBlock)) s.End)))) ≡ (RefusedAt 4 14 1)
unfolding computing
random_89 = refl

random_90 : body_verdict (record { predicates = ((record { name = name_E; args = ([]); cases = ((record { opened = []; facts = ([]); locals = []; items = ([]) }) ∷ []) }) ∷ []); specs = ((record { is_void = true; name = name_f; params = (name_r0 ∷ name_n1 ∷ []); vars = ((name_e0, sort.Val) ∷ (name_l0, sort.List) ∷ (name_a1, sort.Int) ∷ []); pre = (record { opened = []; facts = ((Rel relation.Eq (Of unary.Len (Var 1 sort.List)) (Number (pos 1))) ∷ []); locals = ((name_r0, (Var 0 sort.Val)) ∷ (name_n1, (Of unary.Vi (Var 2 sort.Int))) ∷ []); items = ((Data (Number (pos 64)) (Var 0 sort.Val) (Var 1 sort.List)) ∷ []) }); post = (record { opened = []; facts = ([]); locals = []; items = ((Data (Number (pos 64)) (Var 0 sort.Val) (Var 1 sort.List)) ∷ []) }) }) ∷ (record { is_void = false; name = name_main; params = ([]); vars = []; pre = (record { opened = []; facts = ([]); locals = []; items = ([]) }); post = (record { opened = []; facts = ((Rel relation.Eq (Var 0 sort.Val) (Of unary.Vi (Number (pos 0)))) ∷ []); locals = []; items = ([]) }) }) ∷ []) }) (record { is_void = true; name = name_f; params = (name_r0 ∷ name_n1 ∷ []); vars = ((name_e0, sort.Val) ∷ (name_l0, sort.List) ∷ (name_a1, sort.Int) ∷ []); pre = (record { opened = []; facts = ((Rel relation.Eq (Of unary.Len (Var 1 sort.List)) (Number (pos 1))) ∷ []); locals = ((name_r0, (Var 0 sort.Val)) ∷ (name_n1, (Of unary.Vi (Var 2 sort.Int))) ∷ []); items = ((Data (Number (pos 64)) (Var 0 sort.Val) (Var 1 sort.List)) ∷ []) }); post = (record { opened = []; facts = ([]); locals = []; items = ((Data (Number (pos 64)) (Var 0 sort.Val) (Var 1 sort.List)) ∷ []) }) }) (record { temps = (name_r0 ∷ name_n1 ∷ name_s ∷ name_t ∷ name_i ∷ name_x1 ∷ name_d0 ∷ name_p1 ∷ name_q1 ∷ []); body = (c.Then (c.Set 2 (c.Const 3)) (c.Then (c.Set 3 (c.Const 2)) (c.Then (c.Load 2 (root.Temp 0) (c.Index kind.Signed (c.Const 0) c.Here)) (c.Then (c.Set 5 (c.Binary two.Mul kind.Unsigned (c.Const 3) (c.Const 5))) (c.Then (c.Malloc 7 3) (c.Then (c.If (c.Pointers (c.Temp 7) (c.Const 0) true) (c.Then (c.Return None) c.End) c.End) (c.Then (c.Store (root.Temp 7) (c.Offset 0 c.Here) (c.Temp 3)) (c.Then (c.Load 3 (root.Temp 7) (c.Offset 0 c.Here)) (c.Then (c.Free (c.Temp 7)) c.End))))))))) }) (s.Then 1 (s.Set ([]) ([])) s.NoBlock (s.Then 2 (s.Set ([]) ([])) s.NoBlock (s.Then 3 (s.Load 0 ([]) ((record { lines = ((line.Comb (((pos 1), 1) ∷ ((pos 1), 2) ∷ [])) ∷ []) }) ∷ [])) s.NoBlock (s.Then 4 (s.Set ([]) ([])) s.NoBlock (s.Then 5 (s.Malloc name_k1 ([]) ([])) (s.WithBlock (s.Then 6 (s.If ([]) ([]) ([]) ([])) (s.WithBlock (s.Then 7 (s.Return ([]) ([]) ([])) s.NoBlock s.End) (s.WithBlock (s.Then 8 (s.Absurd ([])) s.NoBlock s.End) s.NoBlock)) s.End) (s.WithBlock (s.Then 9 (s.If (1 ∷ []) ([]) ([]) ([])) (s.WithBlock (s.Then 10 (s.Subst name_k1) s.NoBlock (s.Then 11 (s.Absurd ([])) s.NoBlock s.End)) (s.WithBlock (s.Then 12 (s.Store 1 ([]) ([])) s.NoBlock (s.Then 13 (s.Free 1 2 ([])) s.NoBlock (s.Then 14 (s.Load 1 ([]) ([])) s.NoBlock (s.Then 15 (s.Fall ([]) ([])) s.NoBlock s.End)))) s.NoBlock)) s.End) s.NoBlock)) s.End))))) ≡ (RefusedAt 13 15 1)
unfolding computing
random_90 = refl

random_91 : body_verdict (record { predicates = ((record { name = name_E; args = ([]); cases = ((record { opened = []; facts = ([]); locals = []; items = ([]) }) ∷ []) }) ∷ []); specs = ((record { is_void = true; name = name_f; params = (name_r0 ∷ name_n1 ∷ []); vars = ((name_e0, sort.Val) ∷ (name_l0, sort.List) ∷ (name_a1, sort.Int) ∷ []); pre = (record { opened = []; facts = ((Rel relation.Eq (Of unary.Len (Var 1 sort.List)) (Number (pos 1))) ∷ []); locals = ((name_r0, (Var 0 sort.Val)) ∷ (name_n1, (Of unary.Vi (Var 2 sort.Int))) ∷ []); items = ((Data (Number (pos 64)) (Var 0 sort.Val) (Var 1 sort.List)) ∷ []) }); post = (record { opened = []; facts = ([]); locals = []; items = ((Data (Number (pos 64)) (Var 0 sort.Val) (Var 1 sort.List)) ∷ []) }) }) ∷ (record { is_void = false; name = name_main; params = ([]); vars = []; pre = (record { opened = []; facts = ([]); locals = []; items = ([]) }); post = (record { opened = []; facts = ((Rel relation.Eq (Var 0 sort.Val) (Of unary.Vi (Number (pos 0)))) ∷ []); locals = []; items = ([]) }) }) ∷ []) }) (record { is_void = true; name = name_f; params = (name_r0 ∷ name_n1 ∷ []); vars = ((name_e0, sort.Val) ∷ (name_l0, sort.List) ∷ (name_a1, sort.Int) ∷ []); pre = (record { opened = []; facts = ((Rel relation.Eq (Of unary.Len (Var 1 sort.List)) (Number (pos 1))) ∷ []); locals = ((name_r0, (Var 0 sort.Val)) ∷ (name_n1, (Of unary.Vi (Var 2 sort.Int))) ∷ []); items = ((Data (Number (pos 64)) (Var 0 sort.Val) (Var 1 sort.List)) ∷ []) }); post = (record { opened = []; facts = ([]); locals = []; items = ((Data (Number (pos 64)) (Var 0 sort.Val) (Var 1 sort.List)) ∷ []) }) }) (record { temps = (name_r0 ∷ name_n1 ∷ name_s ∷ name_t ∷ name_i ∷ name_x1 ∷ name_d0 ∷ name_p1 ∷ name_q1 ∷ []); body = (c.Then (c.Set 2 (c.Const 3)) (c.Then (c.Set 3 (c.Const 2)) (c.Then (c.Load 2 (root.Temp 0) (c.Index kind.Signed (c.Const 0) c.Here)) (c.Then (c.Set 5 (c.Binary two.Mul kind.Unsigned (c.Const 3) (c.Const 5))) (c.Then (c.Malloc 7 3) (c.Then (c.If (c.Pointers (c.Temp 7) (c.Const 0) true) (c.Then (c.Return None) c.End) c.End) (c.Then (c.Store (root.Temp 7) (c.Offset 0 c.Here) (c.Temp 3)) (c.Then (c.Load 3 (root.Temp 7) (c.Offset 0 c.Here)) (c.Then (c.Free (c.Temp 7)) c.End))))))))) }) (s.Then 1 (s.Set ([]) ([])) s.NoBlock (s.Then 2 (s.Set ([]) ([])) s.NoBlock (s.Then 3 (s.Load 0 ([]) ((record { lines = ((line.Comb (((pos 1), 1) ∷ ((pos 1), 2) ∷ [])) ∷ []) }) ∷ [])) s.NoBlock (s.Then 4 (s.Set ([]) ([])) s.NoBlock (s.Then 5 (s.Malloc name_k1 ([]) ([])) (s.WithBlock (s.Then 6 (s.If ([]) ([]) ([]) ([])) (s.WithBlock (s.Then 7 (s.Return ([]) ([]) ([])) s.NoBlock s.End) (s.WithBlock (s.Then 8 (s.Absurd ([])) s.NoBlock s.End) s.NoBlock)) s.End) (s.WithBlock (s.Then 9 (s.If (1 ∷ []) ([]) ([]) ([])) (s.WithBlock s.End (s.WithBlock (s.Then 10 (s.Store 1 ([]) ([])) s.NoBlock (s.Then 11 (s.Load 1 ([]) ([])) s.NoBlock (s.Then 12 (s.Free 1 2 ([])) s.NoBlock (s.Then 13 (s.Fall ([]) ([])) s.NoBlock s.End)))) s.NoBlock)) s.End) s.NoBlock)) s.End))))) ≡ (RefusedAt 10 0 10)
unfolding computing
random_91 = refl

random_92 : body_verdict (record { predicates = ((record { name = name_E; args = ([]); cases = ((record { opened = []; facts = ([]); locals = []; items = ([]) }) ∷ []) }) ∷ []); specs = ((record { is_void = true; name = name_f; params = (name_r0 ∷ name_n1 ∷ []); vars = ((name_e0, sort.Val) ∷ (name_l0, sort.List) ∷ (name_a1, sort.Int) ∷ []); pre = (record { opened = []; facts = ((Rel relation.Eq (Of unary.Len (Var 1 sort.List)) (Number (pos 1))) ∷ []); locals = ((name_r0, (Var 0 sort.Val)) ∷ (name_n1, (Of unary.Vi (Var 2 sort.Int))) ∷ []); items = ((Data (Number (pos 64)) (Var 0 sort.Val) (Var 1 sort.List)) ∷ []) }); post = (record { opened = []; facts = ([]); locals = []; items = ((Data (Number (pos 64)) (Var 0 sort.Val) (Var 1 sort.List)) ∷ []) }) }) ∷ (record { is_void = false; name = name_main; params = ([]); vars = []; pre = (record { opened = []; facts = ([]); locals = []; items = ([]) }); post = (record { opened = []; facts = ((Rel relation.Eq (Var 0 sort.Val) (Of unary.Vi (Number (pos 0)))) ∷ []); locals = []; items = ([]) }) }) ∷ []) }) (record { is_void = false; name = name_main; params = ([]); vars = []; pre = (record { opened = []; facts = ([]); locals = []; items = ([]) }); post = (record { opened = []; facts = ((Rel relation.Eq (Var 0 sort.Val) (Of unary.Vi (Number (pos 0)))) ∷ []); locals = []; items = ([]) }) }) (record { temps = ([]); body = (c.Then (c.Return (Some (c.Const 0))) c.End) }) (s.Then 1 (s.Load 0 ([]) ([])) s.NoBlock (s.Then 2 (s.Return ([]) ([]) ([])) s.NoBlock s.End)) ≡ (RefusedAt 1 3 1)
unfolding computing
random_92 = refl

random_93 : body_verdict (record { predicates = ((record { name = name_E; args = ([]); cases = ((record { opened = []; facts = ([]); locals = []; items = ([]) }) ∷ []) }) ∷ []); specs = ((record { is_void = true; name = name_f; params = (name_r0 ∷ name_n1 ∷ []); vars = ((name_e0, sort.Val) ∷ (name_l0, sort.List) ∷ (name_a1, sort.Int) ∷ []); pre = (record { opened = []; facts = ((Rel relation.Eq (Of unary.Len (Var 1 sort.List)) (Number (pos 1))) ∷ []); locals = ((name_r0, (Var 0 sort.Val)) ∷ (name_n1, (Of unary.Vi (Var 2 sort.Int))) ∷ []); items = ((Data (Number (pos 64)) (Var 0 sort.Val) (Var 1 sort.List)) ∷ []) }); post = (record { opened = []; facts = ([]); locals = []; items = ((Data (Number (pos 64)) (Var 0 sort.Val) (Var 1 sort.List)) ∷ []) }) }) ∷ (record { is_void = false; name = name_main; params = ([]); vars = []; pre = (record { opened = []; facts = ([]); locals = []; items = ([]) }); post = (record { opened = []; facts = ((Rel relation.Eq (Var 0 sort.Val) (Of unary.Vi (Number (pos 0)))) ∷ []); locals = []; items = ([]) }) }) ∷ []) }) (record { is_void = true; name = name_f; params = (name_r0 ∷ name_n1 ∷ []); vars = ((name_e0, sort.Val) ∷ (name_l0, sort.List) ∷ (name_a1, sort.Int) ∷ []); pre = (record { opened = []; facts = ((Rel relation.Eq (Of unary.Len (Var 1 sort.List)) (Number (pos 1))) ∷ []); locals = ((name_r0, (Var 0 sort.Val)) ∷ (name_n1, (Of unary.Vi (Var 2 sort.Int))) ∷ []); items = ((Data (Number (pos 64)) (Var 0 sort.Val) (Var 1 sort.List)) ∷ []) }); post = (record { opened = []; facts = ([]); locals = []; items = ((Data (Number (pos 64)) (Var 0 sort.Val) (Var 1 sort.List)) ∷ []) }) }) (record { temps = (name_r0 ∷ name_n1 ∷ name_s ∷ name_t ∷ name_i ∷ name_x1 ∷ name_d0 ∷ name_p1 ∷ name_q1 ∷ []); body = (c.Then (c.Set 2 (c.Const 3)) (c.Then (c.Set 3 (c.Const 2)) (c.Then (c.Load 2 (root.Temp 0) (c.Index kind.Signed (c.Const 0) c.Here)) (c.Then (c.Set 5 (c.Binary two.Mul kind.Unsigned (c.Const 3) (c.Const 5))) (c.Then (c.Malloc 7 3) (c.Then (c.If (c.Pointers (c.Temp 7) (c.Const 0) true) (c.Then (c.Return None) c.End) c.End) (c.Then (c.Store (root.Temp 7) (c.Offset 0 c.Here) (c.Temp 3)) (c.Then (c.Load 3 (root.Temp 7) (c.Offset 0 c.Here)) (c.Then (c.Free (c.Temp 7)) c.End))))))))) }) (s.Then 1 (s.Set ([]) ([])) s.NoBlock (s.Then 2 (s.Set ([]) ([])) s.NoBlock (s.Then 3 (s.Load 0 ([]) ((record { lines = ((line.Comb (((pos 1), 1) ∷ ((pos 1), 2) ∷ [])) ∷ []) }) ∷ [])) s.NoBlock (s.Then 4 (s.Store 1 ([]) ([])) s.NoBlock (s.Then 5 (s.Set ([]) ([])) s.NoBlock (s.Then 6 (s.Malloc name_k1 ([]) ([])) (s.WithBlock (s.Then 7 (s.If ([]) ([]) ([]) ([])) (s.WithBlock (s.Then 8 (s.Return ([]) ([]) ([])) s.NoBlock s.End) (s.WithBlock (s.Then 9 (s.Absurd ([])) s.NoBlock s.End) s.NoBlock)) s.End) (s.WithBlock (s.Then 10 (s.If (1 ∷ []) ([]) ([]) ([])) (s.WithBlock (s.Then 11 (s.Subst name_k1) s.NoBlock (s.Then 12 (s.Absurd ([])) s.NoBlock s.End)) (s.WithBlock (s.Then 13 (s.Store 1 ([]) ([])) s.NoBlock (s.Then 14 (s.Load 1 ([]) ([])) s.NoBlock (s.Then 15 (s.Free 1 2 ([])) s.NoBlock (s.Then 16 (s.Fall ([]) ([])) s.NoBlock s.End)))) s.NoBlock)) s.End) s.NoBlock)) s.End)))))) ≡ (RefusedAt 4 4 1)
unfolding computing
random_93 = refl

random_94 : body_verdict (record { predicates = ((record { name = name_E; args = ([]); cases = ((record { opened = []; facts = ([]); locals = []; items = ([]) }) ∷ []) }) ∷ (record { name = name_ov; args = ([]); cases = ((record { opened = (sort.Val ∷ []); facts = ([]); locals = []; items = ((Data (Number (pos 64)) (Global name_x) (Of2 binary.Cons (Var 0 sort.Val) Nil)) ∷ []) }) ∷ []) }) ∷ []); specs = ((record { is_void = false; name = name_get; params = (name_p ∷ []); vars = ((name_v, sort.Val) ∷ (name_w, sort.Val) ∷ (name_s, sort.Int) ∷ []); pre = (record { opened = []; facts = ((Rel relation.Le (Number (pos 1)) (Var 2 sort.Int)) ∷ []); locals = ((name_p, (Var 0 sort.Val)) ∷ []); items = ((Data (Var 2 sort.Int) (Var 0 sort.Val) (Of2 binary.Cons (Var 1 sort.Val) Nil)) ∷ []) }); post = (record { opened = []; facts = ((Rel relation.Eq (Var 3 sort.Val) (Var 1 sort.Val)) ∷ []); locals = []; items = ((Data (Var 2 sort.Int) (Var 0 sort.Val) (Of2 binary.Cons (Var 1 sort.Val) Nil)) ∷ []) }) }) ∷ (record { is_void = false; name = name_main; params = ([]); vars = []; pre = (record { opened = []; facts = ([]); locals = []; items = ((Data (Number (pos 64)) (Global name_arr) (Of2 binary.Cons (Of unary.Vi (Number (pos 1))) (Of2 binary.Cons (Of unary.Vi (Number (pos 2))) (Of2 binary.Cons (Of unary.Vi (Number (pos 0))) (Of2 binary.Cons (Of unary.Vi (Number (pos 0))) Nil))))) ∷ (Data (Number (pos 64)) (Global name_g) (Of2 binary.Cons (Of unary.Vi (Number (pos 3))) Nil)) ∷ (Data (Number (pos 64)) (Global name_x) (Of2 binary.Cons (Of unary.Vi (Number (pos 3))) Nil)) ∷ (Data (Number (pos 64)) (Global name_l) (Of2 binary.Cons (Of unary.Vi (Number (pos 0))) Nil)) ∷ []) }); post = (record { opened = []; facts = ((Rel relation.Eq (Var 0 sort.Val) (Of unary.Vi (Number (pos 0)))) ∷ []); locals = []; items = ((Data (Number (pos 64)) (Global name_arr) (Of2 binary.Cons (Of unary.Vi (Number (pos 1))) (Of2 binary.Cons (Of unary.Vi (Number (pos 2))) (Of2 binary.Cons (Of unary.Vi (Number (pos 0))) (Of2 binary.Cons (Of unary.Vi (Number (pos 0))) Nil))))) ∷ (Lock (Number (pos 64)) (Global name_l) (record { name = name_ov; args = ([]) })) ∷ (Data (Number (pos 64)) (Global name_g) (Of2 binary.Cons (Of unary.Vi (Number (pos 3))) Nil)) ∷ []) }) }) ∷ []) }) (record { is_void = false; name = name_get; params = (name_p ∷ []); vars = ((name_v, sort.Val) ∷ (name_w, sort.Val) ∷ (name_s, sort.Int) ∷ []); pre = (record { opened = []; facts = ((Rel relation.Le (Number (pos 1)) (Var 2 sort.Int)) ∷ []); locals = ((name_p, (Var 0 sort.Val)) ∷ []); items = ((Data (Var 2 sort.Int) (Var 0 sort.Val) (Of2 binary.Cons (Var 1 sort.Val) Nil)) ∷ []) }); post = (record { opened = []; facts = ((Rel relation.Eq (Var 3 sort.Val) (Var 1 sort.Val)) ∷ []); locals = []; items = ((Data (Var 2 sort.Int) (Var 0 sort.Val) (Of2 binary.Cons (Var 1 sort.Val) Nil)) ∷ []) }) }) (record { temps = (name_p ∷ name_t ∷ []); body = (c.Then (c.Load 1 (root.Temp 0) c.Here) (c.Then (c.Return (Some (c.Temp 1))) c.End)) }) (s.Then 1 (s.Load 1 ([]) ([])) s.NoBlock (s.Then 2 (s.Return ([]) ([]) ([])) s.NoBlock s.End)) ≡ (RefusedAt 1 3 1)
unfolding computing
random_94 = refl

random_95 : body_verdict (record { predicates = ((record { name = name_E; args = ([]); cases = ((record { opened = []; facts = ([]); locals = []; items = ([]) }) ∷ []) }) ∷ (record { name = name_ov; args = ([]); cases = ((record { opened = (sort.Val ∷ []); facts = ([]); locals = []; items = ((Data (Number (pos 64)) (Global name_x) (Of2 binary.Cons (Var 0 sort.Val) Nil)) ∷ []) }) ∷ []) }) ∷ []); specs = ((record { is_void = false; name = name_get; params = (name_p ∷ []); vars = ((name_v, sort.Val) ∷ (name_w, sort.Val) ∷ (name_s, sort.Int) ∷ []); pre = (record { opened = []; facts = ((Rel relation.Le (Number (pos 1)) (Var 2 sort.Int)) ∷ []); locals = ((name_p, (Var 0 sort.Val)) ∷ []); items = ((Data (Var 2 sort.Int) (Var 0 sort.Val) (Of2 binary.Cons (Var 1 sort.Val) Nil)) ∷ []) }); post = (record { opened = []; facts = ((Rel relation.Eq (Var 3 sort.Val) (Var 1 sort.Val)) ∷ []); locals = []; items = ((Data (Var 2 sort.Int) (Var 0 sort.Val) (Of2 binary.Cons (Var 1 sort.Val) Nil)) ∷ []) }) }) ∷ (record { is_void = false; name = name_main; params = ([]); vars = []; pre = (record { opened = []; facts = ([]); locals = []; items = ((Data (Number (pos 64)) (Global name_arr) (Of2 binary.Cons (Of unary.Vi (Number (pos 1))) (Of2 binary.Cons (Of unary.Vi (Number (pos 2))) (Of2 binary.Cons (Of unary.Vi (Number (pos 0))) (Of2 binary.Cons (Of unary.Vi (Number (pos 0))) Nil))))) ∷ (Data (Number (pos 64)) (Global name_g) (Of2 binary.Cons (Of unary.Vi (Number (pos 3))) Nil)) ∷ (Data (Number (pos 64)) (Global name_x) (Of2 binary.Cons (Of unary.Vi (Number (pos 3))) Nil)) ∷ (Data (Number (pos 64)) (Global name_l) (Of2 binary.Cons (Of unary.Vi (Number (pos 0))) Nil)) ∷ []) }); post = (record { opened = []; facts = ((Rel relation.Eq (Var 0 sort.Val) (Of unary.Vi (Number (pos 0)))) ∷ []); locals = []; items = ((Data (Number (pos 64)) (Global name_arr) (Of2 binary.Cons (Of unary.Vi (Number (pos 1))) (Of2 binary.Cons (Of unary.Vi (Number (pos 2))) (Of2 binary.Cons (Of unary.Vi (Number (pos 0))) (Of2 binary.Cons (Of unary.Vi (Number (pos 0))) Nil))))) ∷ (Lock (Number (pos 64)) (Global name_l) (record { name = name_ov; args = ([]) })) ∷ (Data (Number (pos 64)) (Global name_g) (Of2 binary.Cons (Of unary.Vi (Number (pos 3))) Nil)) ∷ []) }) }) ∷ []) }) (record { is_void = false; name = name_main; params = ([]); vars = []; pre = (record { opened = []; facts = ([]); locals = []; items = ((Data (Number (pos 64)) (Global name_arr) (Of2 binary.Cons (Of unary.Vi (Number (pos 1))) (Of2 binary.Cons (Of unary.Vi (Number (pos 2))) (Of2 binary.Cons (Of unary.Vi (Number (pos 0))) (Of2 binary.Cons (Of unary.Vi (Number (pos 0))) Nil))))) ∷ (Data (Number (pos 64)) (Global name_g) (Of2 binary.Cons (Of unary.Vi (Number (pos 3))) Nil)) ∷ (Data (Number (pos 64)) (Global name_x) (Of2 binary.Cons (Of unary.Vi (Number (pos 3))) Nil)) ∷ (Data (Number (pos 64)) (Global name_l) (Of2 binary.Cons (Of unary.Vi (Number (pos 0))) Nil)) ∷ []) }); post = (record { opened = []; facts = ((Rel relation.Eq (Var 0 sort.Val) (Of unary.Vi (Number (pos 0)))) ∷ []); locals = []; items = ((Data (Number (pos 64)) (Global name_arr) (Of2 binary.Cons (Of unary.Vi (Number (pos 1))) (Of2 binary.Cons (Of unary.Vi (Number (pos 2))) (Of2 binary.Cons (Of unary.Vi (Number (pos 0))) (Of2 binary.Cons (Of unary.Vi (Number (pos 0))) Nil))))) ∷ (Lock (Number (pos 64)) (Global name_l) (record { name = name_ov; args = ([]) })) ∷ (Data (Number (pos 64)) (Global name_g) (Of2 binary.Cons (Of unary.Vi (Number (pos 3))) Nil)) ∷ []) }) }) (record { temps = (name_s ∷ name_t ∷ name_i ∷ name_x1 ∷ name_d0 ∷ name_p1 ∷ name_q1 ∷ []); body = (c.Then (c.Set 0 (c.Const 3)) (c.Then (c.Set 1 (c.Const 2)) (c.Then (c.OnLock lock.Make (c.Address (root.Global name_l 1) c.Here)) (c.Then (c.OnLock lock.Release (c.Address (root.Global name_l 1) c.Here)) (c.Then (c.Call (Some 0) name_get ((c.Address (root.Global name_g 1) c.Here) ∷ [])) (c.Then (c.OnLock lock.Acquire (c.Address (root.Global name_l 1) c.Here)) (c.Then (c.Load 1 (root.Global name_x 1) c.Here) (c.Then (c.Store (root.Global name_x 1) c.Here (c.Temp 1)) (c.Then (c.OnLock lock.Release (c.Address (root.Global name_l 1) c.Here)) (c.Then (c.Return (Some (c.Const 0))) c.End)))))))))) }) (s.Then 1 (s.Share 3 (Number (pos 16)) ([])) s.NoBlock (s.Then 2 (s.Unshare 3 4 ([])) s.NoBlock (s.Then 3 (s.Set ([]) ([])) s.NoBlock (s.Then 4 (s.Set ([]) ([])) s.NoBlock (s.Then 5 (s.MakeLock 3 (record { name = name_ov; args = ([]) }) ([]) ([])) s.NoBlock (s.Then 6 (s.Fold name_ov 0 ([]) ((Of unary.Vi (Number (pos 3))) ∷ []) ([])) s.NoBlock (s.Then 7 (s.Release 3 4 ([])) s.NoBlock (s.Then 8 (s.Block 0 (record { opened = []; facts = ([]); locals = ((name_s, (Of unary.Vi (Number (pos 3)))) ∷ (name_t, (Of unary.Vi (Number (pos 2)))) ∷ []); items = ((Data (Number (pos 64)) (Global name_arr) (Of2 binary.Cons (Of unary.Vi (Number (pos 1))) (Of2 binary.Cons (Of unary.Vi (Number (pos 2))) (Of2 binary.Cons (Of unary.Vi (Number (pos 0))) (Of2 binary.Cons (Of unary.Vi (Number (pos 0))) Nil))))) ∷ (Data (Number (pos 64)) (Global name_g) (Of2 binary.Cons (Of unary.Vi (Number (pos 3))) Nil)) ∷ (Lock (Number (pos 64)) (Global name_l) (record { name = name_ov; args = ([]) })) ∷ []) }) ([]) ([])) (s.WithBlock (s.Then 9 (s.Fall ([]) ([])) s.NoBlock s.End) s.NoBlock) (s.Then 10 (s.Call ((Global name_g) ∷ (Of unary.Vi (Number (pos 3))) ∷ (Number (pos 64)) ∷ []) ([]) ([]) (name_k1 ∷ [])) s.NoBlock (s.Then 11 (s.Acquire 1 ([])) s.NoBlock (s.Then 12 (s.Unfold 4 ((name_k2 ∷ []) ∷ [])) (s.WithBlock (s.Then 13 (s.Load 4 ([]) ([])) s.NoBlock (s.Then 14 (s.Store 4 ([]) ([])) s.NoBlock (s.Then 15 (s.Law name_band_hi ((Number (pos 2)) ∷ (Number (pos 7)) ∷ []) ([])) s.NoBlock (s.Then 16 (s.Fold name_ov 0 ([]) ((Named name_k2) ∷ []) ([])) s.NoBlock (s.Then 17 (s.Release 3 4 ([])) s.NoBlock (s.Then 18 (s.Return ([]) ([]) ([])) s.NoBlock s.End)))))) s.NoBlock) (s.Then 19 (s.Unfold 4 ((name_k2 ∷ []) ∷ [])) (s.WithBlock (s.Then 20 (s.Load 4 ([]) ([])) s.NoBlock (s.Then 21 (s.Store 4 ([]) ([])) s.NoBlock (s.Then 22 (s.Law name_band_hi ((Number (pos 2)) ∷ (Number (pos 7)) ∷ []) ([])) s.NoBlock (s.Then 23 (s.Fold name_ov 0 ([]) ((Named name_k2) ∷ []) ([])) s.NoBlock (s.Then 24 (s.Release 3 4 ([])) s.NoBlock (s.Then 25 (s.Return ([]) ([]) ([])) s.NoBlock s.End)))))) s.NoBlock) s.End)))))))))))) ≡ (RefusedAt 19 0 11)
unfolding computing
random_95 = refl

random_96 : body_verdict (record { predicates = ((record { name = name_E; args = ([]); cases = ((record { opened = []; facts = ([]); locals = []; items = ([]) }) ∷ []) }) ∷ (record { name = name_ov; args = ([]); cases = ((record { opened = (sort.Val ∷ []); facts = ([]); locals = []; items = ((Data (Number (pos 64)) (Global name_x) (Of2 binary.Cons (Var 0 sort.Val) Nil)) ∷ []) }) ∷ []) }) ∷ []); specs = ((record { is_void = false; name = name_get; params = (name_p ∷ []); vars = ((name_v, sort.Val) ∷ (name_w, sort.Val) ∷ (name_s, sort.Int) ∷ []); pre = (record { opened = []; facts = ((Rel relation.Le (Number (pos 1)) (Var 2 sort.Int)) ∷ []); locals = ((name_p, (Var 0 sort.Val)) ∷ []); items = ((Data (Var 2 sort.Int) (Var 0 sort.Val) (Of2 binary.Cons (Var 1 sort.Val) Nil)) ∷ []) }); post = (record { opened = []; facts = ((Rel relation.Eq (Var 3 sort.Val) (Var 1 sort.Val)) ∷ []); locals = []; items = ((Data (Var 2 sort.Int) (Var 0 sort.Val) (Of2 binary.Cons (Var 1 sort.Val) Nil)) ∷ []) }) }) ∷ (record { is_void = false; name = name_main; params = ([]); vars = []; pre = (record { opened = []; facts = ([]); locals = []; items = ((Data (Number (pos 64)) (Global name_arr) (Of2 binary.Cons (Of unary.Vi (Number (pos 1))) (Of2 binary.Cons (Of unary.Vi (Number (pos 2))) (Of2 binary.Cons (Of unary.Vi (Number (pos 0))) (Of2 binary.Cons (Of unary.Vi (Number (pos 0))) Nil))))) ∷ (Data (Number (pos 64)) (Global name_g) (Of2 binary.Cons (Of unary.Vi (Number (pos 3))) Nil)) ∷ (Data (Number (pos 64)) (Global name_x) (Of2 binary.Cons (Of unary.Vi (Number (pos 3))) Nil)) ∷ (Data (Number (pos 64)) (Global name_l) (Of2 binary.Cons (Of unary.Vi (Number (pos 0))) Nil)) ∷ []) }); post = (record { opened = []; facts = ((Rel relation.Eq (Var 0 sort.Val) (Of unary.Vi (Number (pos 0)))) ∷ []); locals = []; items = ((Data (Number (pos 64)) (Global name_arr) (Of2 binary.Cons (Of unary.Vi (Number (pos 1))) (Of2 binary.Cons (Of unary.Vi (Number (pos 2))) (Of2 binary.Cons (Of unary.Vi (Number (pos 0))) (Of2 binary.Cons (Of unary.Vi (Number (pos 0))) Nil))))) ∷ (Lock (Number (pos 64)) (Global name_l) (record { name = name_ov; args = ([]) })) ∷ (Data (Number (pos 64)) (Global name_g) (Of2 binary.Cons (Of unary.Vi (Number (pos 3))) Nil)) ∷ []) }) }) ∷ []) }) (record { is_void = false; name = name_main; params = ([]); vars = []; pre = (record { opened = []; facts = ([]); locals = []; items = ((Data (Number (pos 64)) (Global name_arr) (Of2 binary.Cons (Of unary.Vi (Number (pos 1))) (Of2 binary.Cons (Of unary.Vi (Number (pos 2))) (Of2 binary.Cons (Of unary.Vi (Number (pos 0))) (Of2 binary.Cons (Of unary.Vi (Number (pos 0))) Nil))))) ∷ (Data (Number (pos 64)) (Global name_g) (Of2 binary.Cons (Of unary.Vi (Number (pos 3))) Nil)) ∷ (Data (Number (pos 64)) (Global name_x) (Of2 binary.Cons (Of unary.Vi (Number (pos 3))) Nil)) ∷ (Data (Number (pos 64)) (Global name_l) (Of2 binary.Cons (Of unary.Vi (Number (pos 0))) Nil)) ∷ []) }); post = (record { opened = []; facts = ((Rel relation.Eq (Var 0 sort.Val) (Of unary.Vi (Number (pos 0)))) ∷ []); locals = []; items = ((Data (Number (pos 64)) (Global name_arr) (Of2 binary.Cons (Of unary.Vi (Number (pos 1))) (Of2 binary.Cons (Of unary.Vi (Number (pos 2))) (Of2 binary.Cons (Of unary.Vi (Number (pos 0))) (Of2 binary.Cons (Of unary.Vi (Number (pos 0))) Nil))))) ∷ (Lock (Number (pos 64)) (Global name_l) (record { name = name_ov; args = ([]) })) ∷ (Data (Number (pos 64)) (Global name_g) (Of2 binary.Cons (Of unary.Vi (Number (pos 3))) Nil)) ∷ []) }) }) (record { temps = (name_s ∷ name_t ∷ name_i ∷ name_x1 ∷ name_d0 ∷ name_p1 ∷ name_q1 ∷ []); body = (c.Then (c.Set 0 (c.Const 3)) (c.Then (c.Set 1 (c.Const 2)) (c.Then (c.OnLock lock.Make (c.Address (root.Global name_l 1) c.Here)) (c.Then (c.OnLock lock.Release (c.Address (root.Global name_l 1) c.Here)) (c.Then (c.Call (Some 0) name_get ((c.Address (root.Global name_g 1) c.Here) ∷ [])) (c.Then (c.OnLock lock.Acquire (c.Address (root.Global name_l 1) c.Here)) (c.Then (c.Load 1 (root.Global name_x 1) c.Here) (c.Then (c.Store (root.Global name_x 1) c.Here (c.Temp 1)) (c.Then (c.OnLock lock.Release (c.Address (root.Global name_l 1) c.Here)) (c.Then (c.Return (Some (c.Const 0))) c.End)))))))))) }) (s.Then 1 (s.Share 3 (Number (pos 16)) ([])) s.NoBlock (s.Then 2 (s.Unshare 3 4 ([])) s.NoBlock (s.Then 3 (s.Set ([]) ([])) s.NoBlock (s.Then 4 (s.Set ([]) ([])) s.NoBlock (s.Then 5 (s.MakeLock 3 (record { name = name_ov; args = ([]) }) ([]) ([])) s.NoBlock (s.Then 6 (s.Release 3 4 ([])) s.NoBlock (s.Then 7 (s.Fold name_ov 0 ([]) ((Of unary.Vi (Number (pos 3))) ∷ []) ([])) s.NoBlock (s.Then 8 (s.Block 0 (record { opened = []; facts = ([]); locals = ((name_s, (Of unary.Vi (Number (pos 3)))) ∷ (name_t, (Of unary.Vi (Number (pos 2)))) ∷ []); items = ((Data (Number (pos 64)) (Global name_arr) (Of2 binary.Cons (Of unary.Vi (Number (pos 1))) (Of2 binary.Cons (Of unary.Vi (Number (pos 2))) (Of2 binary.Cons (Of unary.Vi (Number (pos 0))) (Of2 binary.Cons (Of unary.Vi (Number (pos 0))) Nil))))) ∷ (Data (Number (pos 64)) (Global name_g) (Of2 binary.Cons (Of unary.Vi (Number (pos 3))) Nil)) ∷ (Lock (Number (pos 64)) (Global name_l) (record { name = name_ov; args = ([]) })) ∷ []) }) ([]) ([])) (s.WithBlock (s.Then 9 (s.Fall ([]) ([])) s.NoBlock s.End) s.NoBlock) (s.Then 10 (s.Call ((Global name_g) ∷ (Of unary.Vi (Number (pos 3))) ∷ (Number (pos 64)) ∷ []) ([]) ([]) (name_k1 ∷ [])) s.NoBlock (s.Then 11 (s.Acquire 1 ([])) s.NoBlock (s.Then 12 (s.Unfold 4 ((name_k2 ∷ []) ∷ [])) (s.WithBlock (s.Then 13 (s.Load 4 ([]) ([])) s.NoBlock (s.Then 14 (s.Store 4 ([]) ([])) s.NoBlock (s.Then 15 (s.Law name_band_hi ((Number (pos 2)) ∷ (Number (pos 7)) ∷ []) ([])) s.NoBlock (s.Then 16 (s.Fold name_ov 0 ([]) ((Named name_k2) ∷ []) ([])) s.NoBlock (s.Then 17 (s.Release 3 4 ([])) s.NoBlock (s.Then 18 (s.Return ([]) ([]) ([])) s.NoBlock s.End)))))) s.NoBlock) s.End))))))))))) ≡ (RefusedAt 6 18 1)
unfolding computing
random_96 = refl

random_97 : body_verdict (record { predicates = ([]); specs = ((record { is_void = false; name = name_f; params = (name_p00 ∷ name_p10 ∷ []); vars = ((name_v0, sort.Val) ∷ (name_o0, sort.Int) ∷ (name_v1, sort.Val) ∷ (name_o1, sort.Int) ∷ []); pre = (record { opened = []; facts = ((Rel relation.Le (Number (pos 0)) (Var 1 sort.Int)) ∷ (Rel relation.Le (Var 1 sort.Int) (Number (pos 20))) ∷ (Rel relation.Le (Number (pos 0)) (Var 3 sort.Int)) ∷ (Rel relation.Le (Var 3 sort.Int) (Number (pos 20))) ∷ []); locals = ((name_p00, (Var 0 sort.Val)) ∷ (name_p10, (Var 2 sort.Val)) ∷ []); items = ((Data (Number (pos 64)) (Var 0 sort.Val) (Of2 binary.Cons (Of unary.Vi (Var 1 sort.Int)) Nil)) ∷ (Data (Number (pos 64)) (Var 2 sort.Val) (Of2 binary.Cons (Of unary.Vi (Var 3 sort.Int)) Nil)) ∷ []) }); post = (record { opened = (sort.List ∷ sort.List ∷ []); facts = ([]); locals = []; items = ((Data (Number (pos 64)) (Var 0 sort.Val) (Var 5 sort.List)) ∷ (Data (Number (pos 64)) (Var 2 sort.Val) (Var 6 sort.List)) ∷ []) }) }) ∷ (record { is_void = false; name = name_main; params = ([]); vars = []; pre = (record { opened = []; facts = ([]); locals = []; items = ([]) }); post = (record { opened = []; facts = ((Rel relation.Eq (Var 0 sort.Val) (Of unary.Vi (Number (pos 0)))) ∷ []); locals = []; items = ([]) }) }) ∷ []) }) (record { is_void = false; name = name_f; params = (name_p00 ∷ name_p10 ∷ []); vars = ((name_v0, sort.Val) ∷ (name_o0, sort.Int) ∷ (name_v1, sort.Val) ∷ (name_o1, sort.Int) ∷ []); pre = (record { opened = []; facts = ((Rel relation.Le (Number (pos 0)) (Var 1 sort.Int)) ∷ (Rel relation.Le (Var 1 sort.Int) (Number (pos 20))) ∷ (Rel relation.Le (Number (pos 0)) (Var 3 sort.Int)) ∷ (Rel relation.Le (Var 3 sort.Int) (Number (pos 20))) ∷ []); locals = ((name_p00, (Var 0 sort.Val)) ∷ (name_p10, (Var 2 sort.Val)) ∷ []); items = ((Data (Number (pos 64)) (Var 0 sort.Val) (Of2 binary.Cons (Of unary.Vi (Var 1 sort.Int)) Nil)) ∷ (Data (Number (pos 64)) (Var 2 sort.Val) (Of2 binary.Cons (Of unary.Vi (Var 3 sort.Int)) Nil)) ∷ []) }); post = (record { opened = (sort.List ∷ sort.List ∷ []); facts = ([]); locals = []; items = ((Data (Number (pos 64)) (Var 0 sort.Val) (Var 5 sort.List)) ∷ (Data (Number (pos 64)) (Var 2 sort.Val) (Var 6 sort.List)) ∷ []) }) }) (record { temps = (name_p00 ∷ name_p10 ∷ name_s ∷ name_t ∷ name_i ∷ name_x1 ∷ name_d0 ∷ name_p1 ∷ name_q1 ∷ []); body = (c.Then (c.Set 2 (c.Const 1)) (c.Then (c.Set 3 (c.Const 2)) (c.Then (c.Store (root.Temp 0) c.Here (c.Const 1)) (c.Then (c.Malloc 7 3) (c.Then (c.If (c.Pointers (c.Temp 7) (c.Const 0) true) (c.Then (c.Return (Some (c.Const 0))) c.End) c.End) (c.Then (c.Store (root.Temp 7) (c.Offset 0 c.Here) (c.Const 2)) (c.Then (c.Load 3 (root.Temp 7) (c.Offset 0 c.Here)) (c.Then (c.Free (c.Temp 7)) (c.Then (c.Load 2 (root.Temp 0) c.Here) (c.Then (c.Set 2 (c.Temp 3)) (c.Then (c.Return (Some (c.Temp 2))) c.End))))))))))) }) (s.Then 1 (s.Set ([]) ([])) s.NoBlock (s.Then 2 (s.Set ([]) ([])) s.NoBlock (s.Then 3 (s.Return ((Of2 binary.Cons (Of unary.Vi (Number (pos 1))) Nil) ∷ (Of2 binary.Cons (Of unary.Vi (Named name_o1)) Nil) ∷ []) ([]) ([])) s.NoBlock (s.Then 4 (s.Malloc name_k1 ([]) ([])) (s.WithBlock (s.Then 5 (s.If ([]) ([]) ([]) ([])) (s.WithBlock (s.Then 6 (s.Return ((Of2 binary.Cons (Of unary.Vi (Number (pos 1))) Nil) ∷ (Of2 binary.Cons (Of unary.Vi (Named name_o1)) Nil) ∷ []) ([]) ([])) s.NoBlock s.End) (s.WithBlock (s.Then 7 (s.Absurd ([])) s.NoBlock s.End) s.NoBlock)) s.End) (s.WithBlock (s.Then 8 (s.If (2 ∷ []) ([]) ([]) ([])) (s.WithBlock (s.Then 9 (s.Subst name_k1) s.NoBlock (s.Then 10 (s.Absurd ([])) s.NoBlock s.End)) (s.WithBlock (s.Then 11 (s.Store 2 ([]) ([])) s.NoBlock (s.Then 12 (s.Load 2 ([]) ([])) s.NoBlock (s.Then 13 (s.Free 2 3 ([])) s.NoBlock (s.Then 14 (s.Load 0 ([]) ([])) s.NoBlock (s.Then 15 (s.Set ([]) ([])) s.NoBlock (s.Then 16 (s.Store 0 ([]) ([])) s.NoBlock s.End)))))) s.NoBlock)) s.End) s.NoBlock)) s.End)))) ≡ (RefusedAt 3 9 1)
unfolding computing
random_97 = refl

random_98 : body_verdict (record { predicates = ([]); specs = ((record { is_void = false; name = name_f; params = (name_p00 ∷ name_p10 ∷ []); vars = ((name_v0, sort.Val) ∷ (name_o0, sort.Int) ∷ (name_v1, sort.Val) ∷ (name_o1, sort.Int) ∷ []); pre = (record { opened = []; facts = ((Rel relation.Le (Number (pos 0)) (Var 1 sort.Int)) ∷ (Rel relation.Le (Var 1 sort.Int) (Number (pos 20))) ∷ (Rel relation.Le (Number (pos 0)) (Var 3 sort.Int)) ∷ (Rel relation.Le (Var 3 sort.Int) (Number (pos 20))) ∷ []); locals = ((name_p00, (Var 0 sort.Val)) ∷ (name_p10, (Var 2 sort.Val)) ∷ []); items = ((Data (Number (pos 64)) (Var 0 sort.Val) (Of2 binary.Cons (Of unary.Vi (Var 1 sort.Int)) Nil)) ∷ (Data (Number (pos 64)) (Var 2 sort.Val) (Of2 binary.Cons (Of unary.Vi (Var 3 sort.Int)) Nil)) ∷ []) }); post = (record { opened = (sort.List ∷ sort.List ∷ []); facts = ([]); locals = []; items = ((Data (Number (pos 64)) (Var 0 sort.Val) (Var 5 sort.List)) ∷ (Data (Number (pos 64)) (Var 2 sort.Val) (Var 6 sort.List)) ∷ []) }) }) ∷ (record { is_void = false; name = name_main; params = ([]); vars = []; pre = (record { opened = []; facts = ([]); locals = []; items = ([]) }); post = (record { opened = []; facts = ((Rel relation.Eq (Var 0 sort.Val) (Of unary.Vi (Number (pos 0)))) ∷ []); locals = []; items = ([]) }) }) ∷ []) }) (record { is_void = false; name = name_f; params = (name_p00 ∷ name_p10 ∷ []); vars = ((name_v0, sort.Val) ∷ (name_o0, sort.Int) ∷ (name_v1, sort.Val) ∷ (name_o1, sort.Int) ∷ []); pre = (record { opened = []; facts = ((Rel relation.Le (Number (pos 0)) (Var 1 sort.Int)) ∷ (Rel relation.Le (Var 1 sort.Int) (Number (pos 20))) ∷ (Rel relation.Le (Number (pos 0)) (Var 3 sort.Int)) ∷ (Rel relation.Le (Var 3 sort.Int) (Number (pos 20))) ∷ []); locals = ((name_p00, (Var 0 sort.Val)) ∷ (name_p10, (Var 2 sort.Val)) ∷ []); items = ((Data (Number (pos 64)) (Var 0 sort.Val) (Of2 binary.Cons (Of unary.Vi (Var 1 sort.Int)) Nil)) ∷ (Data (Number (pos 64)) (Var 2 sort.Val) (Of2 binary.Cons (Of unary.Vi (Var 3 sort.Int)) Nil)) ∷ []) }); post = (record { opened = (sort.List ∷ sort.List ∷ []); facts = ([]); locals = []; items = ((Data (Number (pos 64)) (Var 0 sort.Val) (Var 5 sort.List)) ∷ (Data (Number (pos 64)) (Var 2 sort.Val) (Var 6 sort.List)) ∷ []) }) }) (record { temps = (name_p00 ∷ name_p10 ∷ name_s ∷ name_t ∷ name_i ∷ name_x1 ∷ name_d0 ∷ name_p1 ∷ name_q1 ∷ []); body = (c.Then (c.Set 2 (c.Const 1)) (c.Then (c.Set 3 (c.Const 2)) (c.Then (c.Store (root.Temp 0) c.Here (c.Const 1)) (c.Then (c.Malloc 7 3) (c.Then (c.If (c.Pointers (c.Temp 7) (c.Const 0) true) (c.Then (c.Return (Some (c.Const 0))) c.End) c.End) (c.Then (c.Store (root.Temp 7) (c.Offset 0 c.Here) (c.Const 2)) (c.Then (c.Load 3 (root.Temp 7) (c.Offset 0 c.Here)) (c.Then (c.Free (c.Temp 7)) (c.Then (c.Load 2 (root.Temp 0) c.Here) (c.Then (c.Set 2 (c.Temp 3)) (c.Then (c.Return (Some (c.Temp 2))) c.End))))))))))) }) (s.Then 1 (s.Set ([]) ([])) s.NoBlock (s.Then 2 (s.Set ([]) ([])) s.NoBlock (s.Then 3 (s.Store 0 ([]) ([])) s.NoBlock (s.Then 4 (s.Malloc name_k1 ([]) ([])) (s.WithBlock (s.Then 5 (s.If ([]) ([]) ([]) ([])) (s.WithBlock (s.Then 6 (s.Return ((Of2 binary.Cons (Of unary.Vi (Number (pos 1))) Nil) ∷ (Of2 binary.Cons (Of unary.Vi (Named name_o1)) Nil) ∷ []) ([]) ([])) s.NoBlock s.End) (s.WithBlock (s.Then 7 (s.Absurd ([])) s.NoBlock s.End) s.NoBlock)) s.End) (s.WithBlock (s.Then 8 (s.If (2 ∷ []) ([]) ([]) ([])) (s.WithBlock (s.Then 9 (s.Subst name_k1) s.NoBlock s.End) (s.WithBlock (s.Then 10 (s.Store 2 ([]) ([])) s.NoBlock (s.Then 11 (s.Load 2 ([]) ([])) s.NoBlock (s.Then 12 (s.Free 0 3 ([])) s.NoBlock (s.Then 13 (s.Load 0 ([]) ([])) s.NoBlock (s.Then 14 (s.Set ([]) ([])) s.NoBlock (s.Then 15 (s.Return ((Of2 binary.Cons (Of unary.Vi (Number (pos 1))) Nil) ∷ (Of2 binary.Cons (Of unary.Vi (Named name_o1)) Nil) ∷ []) ([]) ([])) s.NoBlock s.End)))))) s.NoBlock)) s.End) s.NoBlock)) s.End)))) ≡ (RefusedAt 10 0 10)
unfolding computing
random_98 = refl

random_99 : body_verdict (record { predicates = ([]); specs = ((record { is_void = false; name = name_f; params = (name_p00 ∷ name_p10 ∷ []); vars = ((name_v0, sort.Val) ∷ (name_o0, sort.Int) ∷ (name_v1, sort.Val) ∷ (name_o1, sort.Int) ∷ []); pre = (record { opened = []; facts = ((Rel relation.Le (Number (pos 0)) (Var 1 sort.Int)) ∷ (Rel relation.Le (Var 1 sort.Int) (Number (pos 20))) ∷ (Rel relation.Le (Number (pos 0)) (Var 3 sort.Int)) ∷ (Rel relation.Le (Var 3 sort.Int) (Number (pos 20))) ∷ []); locals = ((name_p00, (Var 0 sort.Val)) ∷ (name_p10, (Var 2 sort.Val)) ∷ []); items = ((Data (Number (pos 64)) (Var 0 sort.Val) (Of2 binary.Cons (Of unary.Vi (Var 1 sort.Int)) Nil)) ∷ (Data (Number (pos 64)) (Var 2 sort.Val) (Of2 binary.Cons (Of unary.Vi (Var 3 sort.Int)) Nil)) ∷ []) }); post = (record { opened = (sort.List ∷ sort.List ∷ []); facts = ([]); locals = []; items = ((Data (Number (pos 64)) (Var 0 sort.Val) (Var 5 sort.List)) ∷ (Data (Number (pos 64)) (Var 2 sort.Val) (Var 6 sort.List)) ∷ []) }) }) ∷ (record { is_void = false; name = name_main; params = ([]); vars = []; pre = (record { opened = []; facts = ([]); locals = []; items = ([]) }); post = (record { opened = []; facts = ((Rel relation.Eq (Var 0 sort.Val) (Of unary.Vi (Number (pos 0)))) ∷ []); locals = []; items = ([]) }) }) ∷ []) }) (record { is_void = false; name = name_f; params = (name_p00 ∷ name_p10 ∷ []); vars = ((name_v0, sort.Val) ∷ (name_o0, sort.Int) ∷ (name_v1, sort.Val) ∷ (name_o1, sort.Int) ∷ []); pre = (record { opened = []; facts = ((Rel relation.Le (Number (pos 0)) (Var 1 sort.Int)) ∷ (Rel relation.Le (Var 1 sort.Int) (Number (pos 20))) ∷ (Rel relation.Le (Number (pos 0)) (Var 3 sort.Int)) ∷ (Rel relation.Le (Var 3 sort.Int) (Number (pos 20))) ∷ []); locals = ((name_p00, (Var 0 sort.Val)) ∷ (name_p10, (Var 2 sort.Val)) ∷ []); items = ((Data (Number (pos 64)) (Var 0 sort.Val) (Of2 binary.Cons (Of unary.Vi (Var 1 sort.Int)) Nil)) ∷ (Data (Number (pos 64)) (Var 2 sort.Val) (Of2 binary.Cons (Of unary.Vi (Var 3 sort.Int)) Nil)) ∷ []) }); post = (record { opened = (sort.List ∷ sort.List ∷ []); facts = ([]); locals = []; items = ((Data (Number (pos 64)) (Var 0 sort.Val) (Var 5 sort.List)) ∷ (Data (Number (pos 64)) (Var 2 sort.Val) (Var 6 sort.List)) ∷ []) }) }) (record { temps = (name_p00 ∷ name_p10 ∷ name_s ∷ name_t ∷ name_i ∷ name_x1 ∷ name_d0 ∷ name_p1 ∷ name_q1 ∷ []); body = (c.Then (c.Set 2 (c.Const 1)) (c.Then (c.Set 3 (c.Const 2)) (c.Then (c.Store (root.Temp 0) c.Here (c.Const 1)) (c.Then (c.Malloc 7 3) (c.Then (c.If (c.Pointers (c.Temp 7) (c.Const 0) true) (c.Then (c.Return (Some (c.Const 0))) c.End) c.End) (c.Then (c.Store (root.Temp 7) (c.Offset 0 c.Here) (c.Const 2)) (c.Then (c.Load 3 (root.Temp 7) (c.Offset 0 c.Here)) (c.Then (c.Free (c.Temp 7)) (c.Then (c.Load 2 (root.Temp 0) c.Here) (c.Then (c.Set 2 (c.Temp 3)) (c.Then (c.Return (Some (c.Temp 2))) c.End))))))))))) }) (s.Then 1 (s.Set ([]) ([])) s.NoBlock (s.Then 2 (s.Set ([]) ([])) s.NoBlock (s.Then 3 (s.Store 0 ([]) ([])) s.NoBlock (s.Then 4 (s.Malloc name_k1 ([]) ([])) (s.WithBlock (s.Then 5 (s.If ([]) ([]) ([]) ([])) (s.WithBlock (s.Then 6 (s.Return ((Of2 binary.Cons (Of unary.Vi (Number (pos 1))) Nil) ∷ (Of2 binary.Cons (Of unary.Vi (Named name_o1)) Nil) ∷ []) ([]) ([])) s.NoBlock s.End) (s.WithBlock (s.Then 7 (s.Absurd ([])) s.NoBlock s.End) s.NoBlock)) s.End) (s.WithBlock (s.Then 8 (s.If (2 ∷ []) ([]) ([]) ([])) (s.WithBlock (s.Then 9 (s.Subst name_k1) s.NoBlock (s.Then 10 (s.Absurd ([])) s.NoBlock s.End)) (s.WithBlock (s.Then 11 (s.Store 2 ([]) ([])) s.NoBlock (s.Then 12 (s.Load 2 ([]) ([])) s.NoBlock (s.Then 13 (s.Free 2 4 ([])) s.NoBlock (s.Then 14 (s.Load 0 ([]) ([])) s.NoBlock (s.Then 15 (s.Set ([]) ([])) s.NoBlock (s.Then 16 (s.Return ((Of2 binary.Cons (Of unary.Vi (Number (pos 1))) Nil) ∷ (Of2 binary.Cons (Of unary.Vi (Named name_o1)) Nil) ∷ []) ([]) ([])) s.NoBlock s.End)))))) s.NoBlock)) s.End) s.NoBlock)) s.End)))) ≡ (RefusedAt 13 15 1)
unfolding computing
random_99 = refl

random_100 : body_verdict (record { predicates = ([]); specs = ((record { is_void = false; name = name_f; params = (name_p00 ∷ name_p10 ∷ []); vars = ((name_v0, sort.Val) ∷ (name_o0, sort.Int) ∷ (name_v1, sort.Val) ∷ (name_o1, sort.Int) ∷ []); pre = (record { opened = []; facts = ((Rel relation.Le (Number (pos 0)) (Var 1 sort.Int)) ∷ (Rel relation.Le (Var 1 sort.Int) (Number (pos 20))) ∷ (Rel relation.Le (Number (pos 0)) (Var 3 sort.Int)) ∷ (Rel relation.Le (Var 3 sort.Int) (Number (pos 20))) ∷ []); locals = ((name_p00, (Var 0 sort.Val)) ∷ (name_p10, (Var 2 sort.Val)) ∷ []); items = ((Data (Number (pos 64)) (Var 0 sort.Val) (Of2 binary.Cons (Of unary.Vi (Var 1 sort.Int)) Nil)) ∷ (Data (Number (pos 64)) (Var 2 sort.Val) (Of2 binary.Cons (Of unary.Vi (Var 3 sort.Int)) Nil)) ∷ []) }); post = (record { opened = (sort.List ∷ sort.List ∷ []); facts = ([]); locals = []; items = ((Data (Number (pos 64)) (Var 0 sort.Val) (Var 5 sort.List)) ∷ (Data (Number (pos 64)) (Var 2 sort.Val) (Var 6 sort.List)) ∷ []) }) }) ∷ (record { is_void = false; name = name_main; params = ([]); vars = []; pre = (record { opened = []; facts = ([]); locals = []; items = ([]) }); post = (record { opened = []; facts = ((Rel relation.Eq (Var 0 sort.Val) (Of unary.Vi (Number (pos 0)))) ∷ []); locals = []; items = ([]) }) }) ∷ []) }) (record { is_void = false; name = name_f; params = (name_p00 ∷ name_p10 ∷ []); vars = ((name_v0, sort.Val) ∷ (name_o0, sort.Int) ∷ (name_v1, sort.Val) ∷ (name_o1, sort.Int) ∷ []); pre = (record { opened = []; facts = ((Rel relation.Le (Number (pos 0)) (Var 1 sort.Int)) ∷ (Rel relation.Le (Var 1 sort.Int) (Number (pos 20))) ∷ (Rel relation.Le (Number (pos 0)) (Var 3 sort.Int)) ∷ (Rel relation.Le (Var 3 sort.Int) (Number (pos 20))) ∷ []); locals = ((name_p00, (Var 0 sort.Val)) ∷ (name_p10, (Var 2 sort.Val)) ∷ []); items = ((Data (Number (pos 64)) (Var 0 sort.Val) (Of2 binary.Cons (Of unary.Vi (Var 1 sort.Int)) Nil)) ∷ (Data (Number (pos 64)) (Var 2 sort.Val) (Of2 binary.Cons (Of unary.Vi (Var 3 sort.Int)) Nil)) ∷ []) }); post = (record { opened = (sort.List ∷ sort.List ∷ []); facts = ([]); locals = []; items = ((Data (Number (pos 64)) (Var 0 sort.Val) (Var 5 sort.List)) ∷ (Data (Number (pos 64)) (Var 2 sort.Val) (Var 6 sort.List)) ∷ []) }) }) (record { temps = (name_p00 ∷ name_p10 ∷ name_s ∷ name_t ∷ name_i ∷ name_x1 ∷ name_d0 ∷ name_p1 ∷ name_q1 ∷ []); body = (c.Then (c.Set 2 (c.Const 1)) (c.Then (c.Set 3 (c.Const 2)) (c.Then (c.Store (root.Temp 0) c.Here (c.Const 1)) (c.Then (c.Malloc 7 3) (c.Then (c.If (c.Pointers (c.Temp 7) (c.Const 0) true) (c.Then (c.Return (Some (c.Const 0))) c.End) c.End) (c.Then (c.Store (root.Temp 7) (c.Offset 0 c.Here) (c.Const 2)) (c.Then (c.Load 3 (root.Temp 7) (c.Offset 0 c.Here)) (c.Then (c.Free (c.Temp 7)) (c.Then (c.Load 2 (root.Temp 0) c.Here) (c.Then (c.Set 2 (c.Temp 3)) (c.Then (c.Return (Some (c.Temp 2))) c.End))))))))))) }) (s.Then 1 (s.Set ([]) ([])) s.NoBlock (s.Then 2 (s.Set ([]) ([])) s.NoBlock (s.Then 3 (s.Store 0 ([]) ([])) s.NoBlock (s.Then 4 (s.Malloc name_o1 ([]) ([])) (s.WithBlock (s.Then 5 (s.If ([]) ([]) ([]) ([])) (s.WithBlock (s.Then 6 (s.Return ((Of2 binary.Cons (Of unary.Vi (Number (pos 1))) Nil) ∷ (Of2 binary.Cons (Of unary.Vi (Named name_o1)) Nil) ∷ []) ([]) ([])) s.NoBlock s.End) (s.WithBlock (s.Then 7 (s.Absurd ([])) s.NoBlock s.End) s.NoBlock)) s.End) (s.WithBlock (s.Then 8 (s.If (2 ∷ []) ([]) ([]) ([])) (s.WithBlock (s.Then 9 (s.Subst name_k1) s.NoBlock (s.Then 10 (s.Absurd ([])) s.NoBlock s.End)) (s.WithBlock (s.Then 11 (s.Store 2 ([]) ([])) s.NoBlock (s.Then 12 (s.Load 2 ([]) ([])) s.NoBlock (s.Then 13 (s.Free 2 3 ([])) s.NoBlock (s.Then 14 (s.Load 0 ([]) ([])) s.NoBlock (s.Then 15 (s.Set ([]) ([])) s.NoBlock (s.Then 16 (s.Return ((Of2 binary.Cons (Of unary.Vi (Number (pos 1))) Nil) ∷ (Of2 binary.Cons (Of unary.Vi (Named name_o1)) Nil) ∷ []) ([]) ([])) s.NoBlock s.End)))))) s.NoBlock)) s.End) s.NoBlock)) s.End)))) ≡ (RefusedAt 4 14 6)
unfolding computing
random_100 = refl
