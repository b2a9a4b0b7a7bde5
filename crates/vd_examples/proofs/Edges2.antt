-- Steps at the edges of facts, laws, items and values.
use Rattle.std.specs.Prelude.{◌≡◌, refl, pos, [], ◌∷◌, true, false, None}
use Rattle.vd_terms.specs.Terms.{Number, Var, Named, Undef, Nil, Of, Of2}
use Rattle.vd_terms.specs.declared.assertion.FactOf.TheVariants.{Rel, IsInt, IsPtr, Each}
use Rattle.vd_terms.specs.declared.assertion.ItemOf.TheVariants.{Data}
use Rattle.vd_rules.specs.Computing.{computing}
use Rattle.vd_rules.specs.Verdicts.{Accepted, RefusedAt, body_verdict}
use Rattle.vd_terms.specs.declared.operation.Unary.TheVariants as unary
use Rattle.vd_terms.specs.declared.operation.Binary.TheVariants as binary
use Rattle.vd_logic.specs.declared.term.Sort.TheVariants as sort
use Rattle.vd_logic.specs.declared.assertion.Rel.TheVariants as relation
use Rattle.vd_logic.specs.declared.step.CertLine.TheVariants as line
use Rattle.vd_logic.specs.declared.step.Occurrence.TheVariants as occurrence
use Rattle.vd_logic.specs.declared.step.Forgotten.TheVariants as forgotten
use Rattle.vd_steps.specs.Code as c
use Rattle.vd_steps.specs.Script as s
use Rattle.vd_examples.specs.Names.{name_each_sub, name_f, name_int_vi, name_k, name_len_pos, name_list_cons, name_m, name_num_lo, name_p, name_ptr_null, name_q, name_quot_hi, name_quot_lo, name_rem_eq, name_rev_app, name_s, name_sub_len, name_sub_split, name_sum_hi, name_sum_lo, name_t, name_unum_hi, name_v, name_vi_wrap, name_w, name_x}

edges_101 : body_verdict (record { predicates = ([]); specs = ((record { is_void = true; name = name_f; params = (name_p ∷ []); vars = ((name_s, sort.Int) ∷ (name_t, sort.Int) ∷ (name_v, sort.Val) ∷ (name_w, sort.Val) ∷ (name_k, sort.List) ∷ (name_m, sort.List) ∷ []); pre = (record { opened = []; facts = ([]); locals = []; items = ((Data (Var 0 sort.Int) (Var 2 sort.Val) (Var 4 sort.List)) ∷ []) }); post = (record { opened = []; facts = ([]); locals = []; items = ((Data (Var 0 sort.Int) (Var 2 sort.Val) (Var 4 sort.List)) ∷ []) }) }) ∷ []) }) (record { is_void = true; name = name_f; params = (name_p ∷ []); vars = ((name_s, sort.Int) ∷ (name_t, sort.Int) ∷ (name_v, sort.Val) ∷ (name_w, sort.Val) ∷ (name_k, sort.List) ∷ (name_m, sort.List) ∷ []); pre = (record { opened = []; facts = ([]); locals = []; items = ((Data (Var 0 sort.Int) (Var 2 sort.Val) (Var 4 sort.List)) ∷ []) }); post = (record { opened = []; facts = ([]); locals = []; items = ((Data (Var 0 sort.Int) (Var 2 sort.Val) (Var 4 sort.List)) ∷ []) }) }) (record { temps = (name_p ∷ []); body = (c.Then (c.Return None) c.End) }) (s.Then 1 (s.Naming name_x (Of2 binary.Add (Named name_s) (Number (pos 1)))) s.NoBlock (s.Then 2 (s.Naming name_x (Number (pos 3))) s.NoBlock (s.Then 3 (s.Return ([]) ([]) ([])) s.NoBlock s.End))) ≡ (RefusedAt 2 38 6)
unfolding computing
edges_101 = refl

edges_102 : body_verdict (record { predicates = ([]); specs = ((record { is_void = true; name = name_f; params = (name_p ∷ []); vars = ((name_s, sort.Int) ∷ (name_t, sort.Int) ∷ (name_v, sort.Val) ∷ (name_w, sort.Val) ∷ (name_k, sort.List) ∷ (name_m, sort.List) ∷ []); pre = (record { opened = []; facts = ([]); locals = []; items = ((Data (Var 0 sort.Int) (Var 2 sort.Val) (Var 4 sort.List)) ∷ []) }); post = (record { opened = []; facts = ([]); locals = []; items = ((Data (Var 0 sort.Int) (Var 2 sort.Val) (Var 4 sort.List)) ∷ []) }) }) ∷ []) }) (record { is_void = true; name = name_f; params = (name_p ∷ []); vars = ((name_s, sort.Int) ∷ (name_t, sort.Int) ∷ (name_v, sort.Val) ∷ (name_w, sort.Val) ∷ (name_k, sort.List) ∷ (name_m, sort.List) ∷ []); pre = (record { opened = []; facts = ([]); locals = []; items = ((Data (Var 0 sort.Int) (Var 2 sort.Val) (Var 4 sort.List)) ∷ []) }); post = (record { opened = []; facts = ([]); locals = []; items = ((Data (Var 0 sort.Int) (Var 2 sort.Val) (Var 4 sort.List)) ∷ []) }) }) (record { temps = (name_p ∷ []); body = (c.Then (c.Return None) c.End) }) (s.Then 1 (s.Naming name_x (Named name_s)) s.NoBlock (s.Then 2 (s.Subst name_x) s.NoBlock (s.Then 3 (s.Naming name_x (Number (pos 3))) s.NoBlock (s.Then 4 (s.Return ([]) ([]) ([])) s.NoBlock s.End)))) ≡ (RefusedAt 3 38 6)
unfolding computing
edges_102 = refl

edges_103 : body_verdict (record { predicates = ([]); specs = ((record { is_void = true; name = name_f; params = (name_p ∷ []); vars = ((name_s, sort.Int) ∷ (name_t, sort.Int) ∷ (name_v, sort.Val) ∷ (name_w, sort.Val) ∷ (name_k, sort.List) ∷ (name_m, sort.List) ∷ []); pre = (record { opened = []; facts = ((Rel relation.Eq (Var 0 sort.Int) (Var 1 sort.Int)) ∷ []); locals = []; items = ((Data (Var 0 sort.Int) (Var 2 sort.Val) (Var 4 sort.List)) ∷ (Data (Var 1 sort.Int) (Var 3 sort.Val) (Var 5 sort.List)) ∷ []) }); post = (record { opened = []; facts = ((Rel relation.Eq (Var 0 sort.Int) (Var 1 sort.Int)) ∷ []); locals = []; items = ((Data (Var 0 sort.Int) (Var 2 sort.Val) (Var 4 sort.List)) ∷ (Data (Var 1 sort.Int) (Var 3 sort.Val) (Var 5 sort.List)) ∷ []) }) }) ∷ []) }) (record { is_void = true; name = name_f; params = (name_p ∷ []); vars = ((name_s, sort.Int) ∷ (name_t, sort.Int) ∷ (name_v, sort.Val) ∷ (name_w, sort.Val) ∷ (name_k, sort.List) ∷ (name_m, sort.List) ∷ []); pre = (record { opened = []; facts = ((Rel relation.Eq (Var 0 sort.Int) (Var 1 sort.Int)) ∷ []); locals = []; items = ((Data (Var 0 sort.Int) (Var 2 sort.Val) (Var 4 sort.List)) ∷ (Data (Var 1 sort.Int) (Var 3 sort.Val) (Var 5 sort.List)) ∷ []) }); post = (record { opened = []; facts = ((Rel relation.Eq (Var 0 sort.Int) (Var 1 sort.Int)) ∷ []); locals = []; items = ((Data (Var 0 sort.Int) (Var 2 sort.Val) (Var 4 sort.List)) ∷ (Data (Var 1 sort.Int) (Var 3 sort.Val) (Var 5 sort.List)) ∷ []) }) }) (record { temps = (name_p ∷ []); body = (c.Then (c.Return None) c.End) }) (s.Then 1 (s.Rewrite false 0 (occurrence.Prop 0)) s.NoBlock (s.Then 2 (s.Return ([]) ([]) ([])) s.NoBlock s.End)) ≡ (RefusedAt 1 28 1)
unfolding computing
edges_103 = refl

edges_104 : body_verdict (record { predicates = ([]); specs = ((record { is_void = true; name = name_f; params = (name_p ∷ []); vars = ((name_s, sort.Int) ∷ (name_t, sort.Int) ∷ (name_v, sort.Val) ∷ (name_w, sort.Val) ∷ (name_k, sort.List) ∷ (name_m, sort.List) ∷ []); pre = (record { opened = []; facts = ((Rel relation.Eq (Var 0 sort.Int) (Var 1 sort.Int)) ∷ (Rel relation.Eq (Var 0 sort.Int) (Var 0 sort.Int)) ∷ []); locals = []; items = ((Data (Var 0 sort.Int) (Var 2 sort.Val) (Var 4 sort.List)) ∷ (Data (Var 1 sort.Int) (Var 3 sort.Val) (Var 5 sort.List)) ∷ []) }); post = (record { opened = []; facts = ((Rel relation.Eq (Var 1 sort.Int) (Var 1 sort.Int)) ∷ []); locals = []; items = ((Data (Var 0 sort.Int) (Var 2 sort.Val) (Var 4 sort.List)) ∷ (Data (Var 1 sort.Int) (Var 3 sort.Val) (Var 5 sort.List)) ∷ []) }) }) ∷ []) }) (record { is_void = true; name = name_f; params = (name_p ∷ []); vars = ((name_s, sort.Int) ∷ (name_t, sort.Int) ∷ (name_v, sort.Val) ∷ (name_w, sort.Val) ∷ (name_k, sort.List) ∷ (name_m, sort.List) ∷ []); pre = (record { opened = []; facts = ((Rel relation.Eq (Var 0 sort.Int) (Var 1 sort.Int)) ∷ (Rel relation.Eq (Var 0 sort.Int) (Var 0 sort.Int)) ∷ []); locals = []; items = ((Data (Var 0 sort.Int) (Var 2 sort.Val) (Var 4 sort.List)) ∷ (Data (Var 1 sort.Int) (Var 3 sort.Val) (Var 5 sort.List)) ∷ []) }); post = (record { opened = []; facts = ((Rel relation.Eq (Var 1 sort.Int) (Var 1 sort.Int)) ∷ []); locals = []; items = ((Data (Var 0 sort.Int) (Var 2 sort.Val) (Var 4 sort.List)) ∷ (Data (Var 1 sort.Int) (Var 3 sort.Val) (Var 5 sort.List)) ∷ []) }) }) (record { temps = (name_p ∷ []); body = (c.Then (c.Return None) c.End) }) (s.Then 1 (s.Rewrite false 0 (occurrence.Prop 1)) s.NoBlock (s.Then 2 (s.Return ([]) ([]) ([])) s.NoBlock s.End)) ≡ Accepted
unfolding computing
edges_104 = refl

edges_105 : body_verdict (record { predicates = ([]); specs = ((record { is_void = true; name = name_f; params = (name_p ∷ []); vars = ((name_s, sort.Int) ∷ (name_t, sort.Int) ∷ (name_v, sort.Val) ∷ (name_w, sort.Val) ∷ (name_k, sort.List) ∷ (name_m, sort.List) ∷ []); pre = (record { opened = []; facts = ((Rel relation.Eq (Var 0 sort.Int) (Var 1 sort.Int)) ∷ (Rel relation.Eq (Var 1 sort.Int) (Var 0 sort.Int)) ∷ []); locals = []; items = ((Data (Var 0 sort.Int) (Var 2 sort.Val) (Var 4 sort.List)) ∷ (Data (Var 1 sort.Int) (Var 3 sort.Val) (Var 5 sort.List)) ∷ []) }); post = (record { opened = []; facts = ((Rel relation.Eq (Var 0 sort.Int) (Var 0 sort.Int)) ∷ []); locals = []; items = ((Data (Var 0 sort.Int) (Var 2 sort.Val) (Var 4 sort.List)) ∷ (Data (Var 1 sort.Int) (Var 3 sort.Val) (Var 5 sort.List)) ∷ []) }) }) ∷ []) }) (record { is_void = true; name = name_f; params = (name_p ∷ []); vars = ((name_s, sort.Int) ∷ (name_t, sort.Int) ∷ (name_v, sort.Val) ∷ (name_w, sort.Val) ∷ (name_k, sort.List) ∷ (name_m, sort.List) ∷ []); pre = (record { opened = []; facts = ((Rel relation.Eq (Var 0 sort.Int) (Var 1 sort.Int)) ∷ (Rel relation.Eq (Var 1 sort.Int) (Var 0 sort.Int)) ∷ []); locals = []; items = ((Data (Var 0 sort.Int) (Var 2 sort.Val) (Var 4 sort.List)) ∷ (Data (Var 1 sort.Int) (Var 3 sort.Val) (Var 5 sort.List)) ∷ []) }); post = (record { opened = []; facts = ((Rel relation.Eq (Var 0 sort.Int) (Var 0 sort.Int)) ∷ []); locals = []; items = ((Data (Var 0 sort.Int) (Var 2 sort.Val) (Var 4 sort.List)) ∷ (Data (Var 1 sort.Int) (Var 3 sort.Val) (Var 5 sort.List)) ∷ []) }) }) (record { temps = (name_p ∷ []); body = (c.Then (c.Return None) c.End) }) (s.Then 1 (s.Rewrite true 0 (occurrence.Prop 1)) s.NoBlock (s.Then 2 (s.Return ([]) ([]) ([])) s.NoBlock s.End)) ≡ Accepted
unfolding computing
edges_105 = refl

edges_106 : body_verdict (record { predicates = ([]); specs = ((record { is_void = true; name = name_f; params = (name_p ∷ []); vars = ((name_s, sort.Int) ∷ (name_t, sort.Int) ∷ (name_v, sort.Val) ∷ (name_w, sort.Val) ∷ (name_k, sort.List) ∷ (name_m, sort.List) ∷ []); pre = (record { opened = []; facts = ((Rel relation.Eq (Var 0 sort.Int) (Var 1 sort.Int)) ∷ []); locals = []; items = ((Data (Var 0 sort.Int) (Var 2 sort.Val) (Var 4 sort.List)) ∷ []) }); post = (record { opened = []; facts = ([]); locals = []; items = ((Data (Var 1 sort.Int) (Var 2 sort.Val) (Var 4 sort.List)) ∷ []) }) }) ∷ []) }) (record { is_void = true; name = name_f; params = (name_p ∷ []); vars = ((name_s, sort.Int) ∷ (name_t, sort.Int) ∷ (name_v, sort.Val) ∷ (name_w, sort.Val) ∷ (name_k, sort.List) ∷ (name_m, sort.List) ∷ []); pre = (record { opened = []; facts = ((Rel relation.Eq (Var 0 sort.Int) (Var 1 sort.Int)) ∷ []); locals = []; items = ((Data (Var 0 sort.Int) (Var 2 sort.Val) (Var 4 sort.List)) ∷ []) }); post = (record { opened = []; facts = ([]); locals = []; items = ((Data (Var 1 sort.Int) (Var 2 sort.Val) (Var 4 sort.List)) ∷ []) }) }) (record { temps = (name_p ∷ []); body = (c.Then (c.Return None) c.End) }) (s.Then 1 (s.Rewrite false 0 (occurrence.Item 0)) s.NoBlock (s.Then 2 (s.Return ([]) ([]) ([])) s.NoBlock s.End)) ≡ Accepted
unfolding computing
edges_106 = refl

edges_107 : body_verdict (record { predicates = ([]); specs = ((record { is_void = true; name = name_f; params = (name_p ∷ []); vars = ((name_s, sort.Int) ∷ (name_t, sort.Int) ∷ (name_v, sort.Val) ∷ (name_w, sort.Val) ∷ (name_k, sort.List) ∷ (name_m, sort.List) ∷ []); pre = (record { opened = []; facts = ((Rel relation.Le (Var 0 sort.Int) (Var 1 sort.Int)) ∷ []); locals = []; items = ((Data (Var 0 sort.Int) (Var 2 sort.Val) (Var 4 sort.List)) ∷ []) }); post = (record { opened = []; facts = ([]); locals = []; items = ((Data (Var 0 sort.Int) (Var 2 sort.Val) (Var 4 sort.List)) ∷ []) }) }) ∷ []) }) (record { is_void = true; name = name_f; params = (name_p ∷ []); vars = ((name_s, sort.Int) ∷ (name_t, sort.Int) ∷ (name_v, sort.Val) ∷ (name_w, sort.Val) ∷ (name_k, sort.List) ∷ (name_m, sort.List) ∷ []); pre = (record { opened = []; facts = ((Rel relation.Le (Var 0 sort.Int) (Var 1 sort.Int)) ∷ []); locals = []; items = ((Data (Var 0 sort.Int) (Var 2 sort.Val) (Var 4 sort.List)) ∷ []) }); post = (record { opened = []; facts = ([]); locals = []; items = ((Data (Var 0 sort.Int) (Var 2 sort.Val) (Var 4 sort.List)) ∷ []) }) }) (record { temps = (name_p ∷ []); body = (c.Then (c.Return None) c.End) }) (s.Then 1 (s.Rewrite false 0 (occurrence.Item 0)) s.NoBlock (s.Then 2 (s.Return ([]) ([]) ([])) s.NoBlock s.End)) ≡ (RefusedAt 1 28 1)
unfolding computing
edges_107 = refl

edges_108 : body_verdict (record { predicates = ([]); specs = ((record { is_void = true; name = name_f; params = (name_p ∷ []); vars = ((name_s, sort.Int) ∷ (name_t, sort.Int) ∷ (name_v, sort.Val) ∷ (name_w, sort.Val) ∷ (name_k, sort.List) ∷ (name_m, sort.List) ∷ []); pre = (record { opened = []; facts = ((Rel relation.Eq (Var 0 sort.Int) (Var 1 sort.Int)) ∷ []); locals = []; items = ((Data (Var 0 sort.Int) (Var 2 sort.Val) (Var 4 sort.List)) ∷ (Data (Var 1 sort.Int) (Var 3 sort.Val) (Var 5 sort.List)) ∷ []) }); post = (record { opened = []; facts = ([]); locals = []; items = ((Data (Var 0 sort.Int) (Var 2 sort.Val) (Var 4 sort.List)) ∷ (Data (Var 1 sort.Int) (Var 3 sort.Val) (Var 5 sort.List)) ∷ []) }) }) ∷ []) }) (record { is_void = true; name = name_f; params = (name_p ∷ []); vars = ((name_s, sort.Int) ∷ (name_t, sort.Int) ∷ (name_v, sort.Val) ∷ (name_w, sort.Val) ∷ (name_k, sort.List) ∷ (name_m, sort.List) ∷ []); pre = (record { opened = []; facts = ((Rel relation.Eq (Var 0 sort.Int) (Var 1 sort.Int)) ∷ []); locals = []; items = ((Data (Var 0 sort.Int) (Var 2 sort.Val) (Var 4 sort.List)) ∷ (Data (Var 1 sort.Int) (Var 3 sort.Val) (Var 5 sort.List)) ∷ []) }); post = (record { opened = []; facts = ([]); locals = []; items = ((Data (Var 0 sort.Int) (Var 2 sort.Val) (Var 4 sort.List)) ∷ (Data (Var 1 sort.Int) (Var 3 sort.Val) (Var 5 sort.List)) ∷ []) }) }) (record { temps = (name_p ∷ []); body = (c.Then (c.Return None) c.End) }) (s.Then 1 (s.Rewrite false 0 (occurrence.Local name_p)) s.NoBlock (s.Then 2 (s.Return ([]) ([]) ([])) s.NoBlock s.End)) ≡ (RefusedAt 1 28 4)
unfolding computing
edges_108 = refl

edges_109 : body_verdict (record { predicates = ([]); specs = ((record { is_void = true; name = name_f; params = (name_p ∷ []); vars = ((name_s, sort.Int) ∷ (name_t, sort.Int) ∷ (name_v, sort.Val) ∷ (name_w, sort.Val) ∷ (name_k, sort.List) ∷ (name_m, sort.List) ∷ []); pre = (record { opened = []; facts = ((Rel relation.Eq (Var 0 sort.Int) (Var 1 sort.Int)) ∷ []); locals = []; items = ((Data (Var 0 sort.Int) (Var 2 sort.Val) (Var 4 sort.List)) ∷ (Data (Var 1 sort.Int) (Var 3 sort.Val) (Var 5 sort.List)) ∷ []) }); post = (record { opened = []; facts = ([]); locals = []; items = ((Data (Var 0 sort.Int) (Var 2 sort.Val) (Var 4 sort.List)) ∷ (Data (Var 1 sort.Int) (Var 3 sort.Val) (Var 5 sort.List)) ∷ []) }) }) ∷ []) }) (record { is_void = true; name = name_f; params = (name_p ∷ []); vars = ((name_s, sort.Int) ∷ (name_t, sort.Int) ∷ (name_v, sort.Val) ∷ (name_w, sort.Val) ∷ (name_k, sort.List) ∷ (name_m, sort.List) ∷ []); pre = (record { opened = []; facts = ((Rel relation.Eq (Var 0 sort.Int) (Var 1 sort.Int)) ∷ []); locals = []; items = ((Data (Var 0 sort.Int) (Var 2 sort.Val) (Var 4 sort.List)) ∷ (Data (Var 1 sort.Int) (Var 3 sort.Val) (Var 5 sort.List)) ∷ []) }); post = (record { opened = []; facts = ([]); locals = []; items = ((Data (Var 0 sort.Int) (Var 2 sort.Val) (Var 4 sort.List)) ∷ (Data (Var 1 sort.Int) (Var 3 sort.Val) (Var 5 sort.List)) ∷ []) }) }) (record { temps = (name_p ∷ []); body = (c.Then (c.Return None) c.End) }) (s.Then 1 (s.Rewrite false 0 (occurrence.Local name_q)) s.NoBlock (s.Then 2 (s.Return ([]) ([]) ([])) s.NoBlock s.End)) ≡ (RefusedAt 1 28 4)
unfolding computing
edges_109 = refl

edges_110 : body_verdict (record { predicates = ([]); specs = ((record { is_void = true; name = name_f; params = (name_p ∷ []); vars = ((name_s, sort.Int) ∷ (name_t, sort.Int) ∷ (name_v, sort.Val) ∷ (name_w, sort.Val) ∷ (name_k, sort.List) ∷ (name_m, sort.List) ∷ []); pre = (record { opened = []; facts = ([]); locals = []; items = ((Data (Var 0 sort.Int) (Var 2 sort.Val) (Var 4 sort.List)) ∷ (Data (Var 1 sort.Int) (Var 3 sort.Val) (Var 5 sort.List)) ∷ []) }); post = (record { opened = []; facts = ([]); locals = []; items = ((Data (Var 0 sort.Int) (Var 2 sort.Val) (Var 4 sort.List)) ∷ (Data (Var 1 sort.Int) (Var 3 sort.Val) (Var 5 sort.List)) ∷ []) }) }) ∷ []) }) (record { is_void = true; name = name_f; params = (name_p ∷ []); vars = ((name_s, sort.Int) ∷ (name_t, sort.Int) ∷ (name_v, sort.Val) ∷ (name_w, sort.Val) ∷ (name_k, sort.List) ∷ (name_m, sort.List) ∷ []); pre = (record { opened = []; facts = ([]); locals = []; items = ((Data (Var 0 sort.Int) (Var 2 sort.Val) (Var 4 sort.List)) ∷ (Data (Var 1 sort.Int) (Var 3 sort.Val) (Var 5 sort.List)) ∷ []) }); post = (record { opened = []; facts = ([]); locals = []; items = ((Data (Var 0 sort.Int) (Var 2 sort.Val) (Var 4 sort.List)) ∷ (Data (Var 1 sort.Int) (Var 3 sort.Val) (Var 5 sort.List)) ∷ []) }) }) (record { temps = (name_p ∷ []); body = (c.Then (c.Return None) c.End) }) (s.Then 1 (s.Forget (forgotten.Prop 0)) s.NoBlock (s.Then 2 (s.Return ([]) ([]) ([])) s.NoBlock s.End)) ≡ (RefusedAt 1 36 1)
unfolding computing
edges_110 = refl

edges_111 : body_verdict (record { predicates = ([]); specs = ((record { is_void = true; name = name_f; params = (name_p ∷ []); vars = ((name_s, sort.Int) ∷ (name_t, sort.Int) ∷ (name_v, sort.Val) ∷ (name_w, sort.Val) ∷ (name_k, sort.List) ∷ (name_m, sort.List) ∷ []); pre = (record { opened = []; facts = ((Rel relation.Eq (Var 0 sort.Int) (Var 1 sort.Int)) ∷ []); locals = []; items = ((Data (Var 0 sort.Int) (Var 2 sort.Val) (Var 4 sort.List)) ∷ (Data (Var 1 sort.Int) (Var 3 sort.Val) (Var 5 sort.List)) ∷ []) }); post = (record { opened = []; facts = ((Rel relation.Eq (Var 0 sort.Int) (Var 1 sort.Int)) ∷ []); locals = []; items = ((Data (Var 0 sort.Int) (Var 2 sort.Val) (Var 4 sort.List)) ∷ (Data (Var 1 sort.Int) (Var 3 sort.Val) (Var 5 sort.List)) ∷ []) }) }) ∷ []) }) (record { is_void = true; name = name_f; params = (name_p ∷ []); vars = ((name_s, sort.Int) ∷ (name_t, sort.Int) ∷ (name_v, sort.Val) ∷ (name_w, sort.Val) ∷ (name_k, sort.List) ∷ (name_m, sort.List) ∷ []); pre = (record { opened = []; facts = ((Rel relation.Eq (Var 0 sort.Int) (Var 1 sort.Int)) ∷ []); locals = []; items = ((Data (Var 0 sort.Int) (Var 2 sort.Val) (Var 4 sort.List)) ∷ (Data (Var 1 sort.Int) (Var 3 sort.Val) (Var 5 sort.List)) ∷ []) }); post = (record { opened = []; facts = ((Rel relation.Eq (Var 0 sort.Int) (Var 1 sort.Int)) ∷ []); locals = []; items = ((Data (Var 0 sort.Int) (Var 2 sort.Val) (Var 4 sort.List)) ∷ (Data (Var 1 sort.Int) (Var 3 sort.Val) (Var 5 sort.List)) ∷ []) }) }) (record { temps = (name_p ∷ []); body = (c.Then (c.Return None) c.End) }) (s.Then 1 (s.Forget (forgotten.Prop 0)) s.NoBlock (s.Then 2 (s.Return ([]) ([]) ([])) s.NoBlock s.End)) ≡ (RefusedAt 2 9 3)
unfolding computing
edges_111 = refl

edges_112 : body_verdict (record { predicates = ([]); specs = ((record { is_void = true; name = name_f; params = (name_p ∷ []); vars = ((name_s, sort.Int) ∷ (name_t, sort.Int) ∷ (name_v, sort.Val) ∷ (name_w, sort.Val) ∷ (name_k, sort.List) ∷ (name_m, sort.List) ∷ []); pre = (record { opened = []; facts = ([]); locals = []; items = ((Data (Var 0 sort.Int) (Var 2 sort.Val) (Var 4 sort.List)) ∷ (Data (Var 1 sort.Int) (Var 3 sort.Val) (Var 5 sort.List)) ∷ []) }); post = (record { opened = []; facts = ([]); locals = []; items = ((Data (Var 0 sort.Int) (Var 2 sort.Val) (Var 4 sort.List)) ∷ (Data (Var 1 sort.Int) (Var 3 sort.Val) (Var 5 sort.List)) ∷ []) }) }) ∷ []) }) (record { is_void = true; name = name_f; params = (name_p ∷ []); vars = ((name_s, sort.Int) ∷ (name_t, sort.Int) ∷ (name_v, sort.Val) ∷ (name_w, sort.Val) ∷ (name_k, sort.List) ∷ (name_m, sort.List) ∷ []); pre = (record { opened = []; facts = ([]); locals = []; items = ((Data (Var 0 sort.Int) (Var 2 sort.Val) (Var 4 sort.List)) ∷ (Data (Var 1 sort.Int) (Var 3 sort.Val) (Var 5 sort.List)) ∷ []) }); post = (record { opened = []; facts = ([]); locals = []; items = ((Data (Var 0 sort.Int) (Var 2 sort.Val) (Var 4 sort.List)) ∷ (Data (Var 1 sort.Int) (Var 3 sort.Val) (Var 5 sort.List)) ∷ []) }) }) (record { temps = (name_p ∷ []); body = (c.Then (c.Return None) c.End) }) (s.Then 1 (s.Forget (forgotten.Local name_p)) s.NoBlock (s.Then 2 (s.Return ([]) ([]) ([])) s.NoBlock s.End)) ≡ (RefusedAt 1 36 4)
unfolding computing
edges_112 = refl

edges_113 : body_verdict (record { predicates = ([]); specs = ((record { is_void = true; name = name_f; params = (name_p ∷ []); vars = ((name_s, sort.Int) ∷ (name_t, sort.Int) ∷ (name_v, sort.Val) ∷ (name_w, sort.Val) ∷ (name_k, sort.List) ∷ (name_m, sort.List) ∷ []); pre = (record { opened = []; facts = ([]); locals = []; items = ((Data (Var 0 sort.Int) (Var 2 sort.Val) (Var 4 sort.List)) ∷ (Data (Var 1 sort.Int) (Var 3 sort.Val) (Var 5 sort.List)) ∷ []) }); post = (record { opened = []; facts = ([]); locals = []; items = ((Data (Var 0 sort.Int) (Var 2 sort.Val) (Var 4 sort.List)) ∷ (Data (Var 1 sort.Int) (Var 3 sort.Val) (Var 5 sort.List)) ∷ []) }) }) ∷ []) }) (record { is_void = true; name = name_f; params = (name_p ∷ []); vars = ((name_s, sort.Int) ∷ (name_t, sort.Int) ∷ (name_v, sort.Val) ∷ (name_w, sort.Val) ∷ (name_k, sort.List) ∷ (name_m, sort.List) ∷ []); pre = (record { opened = []; facts = ([]); locals = []; items = ((Data (Var 0 sort.Int) (Var 2 sort.Val) (Var 4 sort.List)) ∷ (Data (Var 1 sort.Int) (Var 3 sort.Val) (Var 5 sort.List)) ∷ []) }); post = (record { opened = []; facts = ([]); locals = []; items = ((Data (Var 0 sort.Int) (Var 2 sort.Val) (Var 4 sort.List)) ∷ (Data (Var 1 sort.Int) (Var 3 sort.Val) (Var 5 sort.List)) ∷ []) }) }) (record { temps = (name_p ∷ []); body = (c.Then (c.Return None) c.End) }) (s.Then 1 (s.Split (Rel relation.Le (Named name_s) (Named name_t)) ([]) ([])) (s.WithBlock (s.Then 2 (s.Return ([]) ([]) ([])) s.NoBlock s.End) (s.WithBlock (s.Then 3 (s.Return ([]) ([]) ([])) s.NoBlock s.End) s.NoBlock)) s.End) ≡ Accepted
unfolding computing
edges_113 = refl

edges_114 : body_verdict (record { predicates = ([]); specs = ((record { is_void = true; name = name_f; params = (name_p ∷ []); vars = ((name_s, sort.Int) ∷ (name_t, sort.Int) ∷ (name_v, sort.Val) ∷ (name_w, sort.Val) ∷ (name_k, sort.List) ∷ (name_m, sort.List) ∷ []); pre = (record { opened = []; facts = ([]); locals = []; items = ((Data (Var 0 sort.Int) (Var 2 sort.Val) (Var 4 sort.List)) ∷ (Data (Var 1 sort.Int) (Var 3 sort.Val) (Var 5 sort.List)) ∷ []) }); post = (record { opened = []; facts = ((Rel relation.Lt (Var 1 sort.Int) (Var 0 sort.Int)) ∷ []); locals = []; items = ((Data (Var 0 sort.Int) (Var 2 sort.Val) (Var 4 sort.List)) ∷ (Data (Var 1 sort.Int) (Var 3 sort.Val) (Var 5 sort.List)) ∷ []) }) }) ∷ []) }) (record { is_void = true; name = name_f; params = (name_p ∷ []); vars = ((name_s, sort.Int) ∷ (name_t, sort.Int) ∷ (name_v, sort.Val) ∷ (name_w, sort.Val) ∷ (name_k, sort.List) ∷ (name_m, sort.List) ∷ []); pre = (record { opened = []; facts = ([]); locals = []; items = ((Data (Var 0 sort.Int) (Var 2 sort.Val) (Var 4 sort.List)) ∷ (Data (Var 1 sort.Int) (Var 3 sort.Val) (Var 5 sort.List)) ∷ []) }); post = (record { opened = []; facts = ((Rel relation.Lt (Var 1 sort.Int) (Var 0 sort.Int)) ∷ []); locals = []; items = ((Data (Var 0 sort.Int) (Var 2 sort.Val) (Var 4 sort.List)) ∷ (Data (Var 1 sort.Int) (Var 3 sort.Val) (Var 5 sort.List)) ∷ []) }) }) (record { temps = (name_p ∷ []); body = (c.Then (c.Return None) c.End) }) (s.Then 1 (s.Split (Rel relation.Le (Named name_s) (Named name_t)) ([]) ([])) (s.WithBlock (s.Then 2 (s.Absurd ([])) s.NoBlock s.End) (s.WithBlock (s.Then 3 (s.Return ([]) ([]) ([])) s.NoBlock s.End) s.NoBlock)) s.End) ≡ (RefusedAt 2 24 3)
unfolding computing
edges_114 = refl

edges_115 : body_verdict (record { predicates = ([]); specs = ((record { is_void = true; name = name_f; params = (name_p ∷ []); vars = ((name_s, sort.Int) ∷ (name_t, sort.Int) ∷ (name_v, sort.Val) ∷ (name_w, sort.Val) ∷ (name_k, sort.List) ∷ (name_m, sort.List) ∷ []); pre = (record { opened = []; facts = ([]); locals = []; items = ((Data (Var 0 sort.Int) (Var 2 sort.Val) (Var 4 sort.List)) ∷ (Data (Var 1 sort.Int) (Var 3 sort.Val) (Var 5 sort.List)) ∷ []) }); post = (record { opened = []; facts = ([]); locals = []; items = ((Data (Var 0 sort.Int) (Var 2 sort.Val) (Var 4 sort.List)) ∷ (Data (Var 1 sort.Int) (Var 3 sort.Val) (Var 5 sort.List)) ∷ []) }) }) ∷ []) }) (record { is_void = true; name = name_f; params = (name_p ∷ []); vars = ((name_s, sort.Int) ∷ (name_t, sort.Int) ∷ (name_v, sort.Val) ∷ (name_w, sort.Val) ∷ (name_k, sort.List) ∷ (name_m, sort.List) ∷ []); pre = (record { opened = []; facts = ([]); locals = []; items = ((Data (Var 0 sort.Int) (Var 2 sort.Val) (Var 4 sort.List)) ∷ (Data (Var 1 sort.Int) (Var 3 sort.Val) (Var 5 sort.List)) ∷ []) }); post = (record { opened = []; facts = ([]); locals = []; items = ((Data (Var 0 sort.Int) (Var 2 sort.Val) (Var 4 sort.List)) ∷ (Data (Var 1 sort.Int) (Var 3 sort.Val) (Var 5 sort.List)) ∷ []) }) }) (record { temps = (name_p ∷ []); body = (c.Then (c.Return None) c.End) }) (s.Then 1 (s.Split (Rel relation.Ne (Named name_s) (Named name_t)) ([]) ([])) (s.WithBlock (s.Then 2 (s.Return ([]) ([]) ([])) s.NoBlock s.End) (s.WithBlock (s.Then 3 (s.Return ([]) ([]) ([])) s.NoBlock s.End) s.NoBlock)) s.End) ≡ (RefusedAt 1 23 1)
unfolding computing
edges_115 = refl

edges_116 : body_verdict (record { predicates = ([]); specs = ((record { is_void = true; name = name_f; params = (name_p ∷ []); vars = ((name_s, sort.Int) ∷ (name_t, sort.Int) ∷ (name_v, sort.Val) ∷ (name_w, sort.Val) ∷ (name_k, sort.List) ∷ (name_m, sort.List) ∷ []); pre = (record { opened = []; facts = ((Rel relation.Le (Number (pos 1)) (Number (pos 0))) ∷ []); locals = []; items = ((Data (Var 0 sort.Int) (Var 2 sort.Val) (Var 4 sort.List)) ∷ (Data (Var 1 sort.Int) (Var 3 sort.Val) (Var 5 sort.List)) ∷ []) }); post = (record { opened = []; facts = ([]); locals = []; items = ((Data (Var 0 sort.Int) (Var 2 sort.Val) (Var 4 sort.List)) ∷ (Data (Var 1 sort.Int) (Var 3 sort.Val) (Var 5 sort.List)) ∷ []) }) }) ∷ []) }) (record { is_void = true; name = name_f; params = (name_p ∷ []); vars = ((name_s, sort.Int) ∷ (name_t, sort.Int) ∷ (name_v, sort.Val) ∷ (name_w, sort.Val) ∷ (name_k, sort.List) ∷ (name_m, sort.List) ∷ []); pre = (record { opened = []; facts = ((Rel relation.Le (Number (pos 1)) (Number (pos 0))) ∷ []); locals = []; items = ((Data (Var 0 sort.Int) (Var 2 sort.Val) (Var 4 sort.List)) ∷ (Data (Var 1 sort.Int) (Var 3 sort.Val) (Var 5 sort.List)) ∷ []) }); post = (record { opened = []; facts = ([]); locals = []; items = ((Data (Var 0 sort.Int) (Var 2 sort.Val) (Var 4 sort.List)) ∷ (Data (Var 1 sort.Int) (Var 3 sort.Val) (Var 5 sort.List)) ∷ []) }) }) (record { temps = (name_p ∷ []); body = (c.Then (c.Return None) c.End) }) (s.Then 1 (s.Absurd ([])) s.NoBlock s.End) ≡ Accepted
unfolding computing
edges_116 = refl

edges_117 : body_verdict (record { predicates = ([]); specs = ((record { is_void = true; name = name_f; params = (name_p ∷ []); vars = ((name_s, sort.Int) ∷ (name_t, sort.Int) ∷ (name_v, sort.Val) ∷ (name_w, sort.Val) ∷ (name_k, sort.List) ∷ (name_m, sort.List) ∷ []); pre = (record { opened = []; facts = ((Rel relation.Le (Number (pos 1)) (Number (pos 0))) ∷ []); locals = []; items = ((Data (Var 0 sort.Int) (Var 2 sort.Val) (Var 4 sort.List)) ∷ (Data (Var 1 sort.Int) (Var 3 sort.Val) (Var 5 sort.List)) ∷ []) }); post = (record { opened = []; facts = ([]); locals = []; items = ((Data (Var 0 sort.Int) (Var 2 sort.Val) (Var 4 sort.List)) ∷ (Data (Var 1 sort.Int) (Var 3 sort.Val) (Var 5 sort.List)) ∷ []) }) }) ∷ []) }) (record { is_void = true; name = name_f; params = (name_p ∷ []); vars = ((name_s, sort.Int) ∷ (name_t, sort.Int) ∷ (name_v, sort.Val) ∷ (name_w, sort.Val) ∷ (name_k, sort.List) ∷ (name_m, sort.List) ∷ []); pre = (record { opened = []; facts = ((Rel relation.Le (Number (pos 1)) (Number (pos 0))) ∷ []); locals = []; items = ((Data (Var 0 sort.Int) (Var 2 sort.Val) (Var 4 sort.List)) ∷ (Data (Var 1 sort.Int) (Var 3 sort.Val) (Var 5 sort.List)) ∷ []) }); post = (record { opened = []; facts = ([]); locals = []; items = ((Data (Var 0 sort.Int) (Var 2 sort.Val) (Var 4 sort.List)) ∷ (Data (Var 1 sort.Int) (Var 3 sort.Val) (Var 5 sort.List)) ∷ []) }) }) (record { temps = (name_p ∷ []); body = (c.Then (c.Return None) c.End) }) (s.Then 1 (s.Absurd ((record { lines = ((line.Comb (((pos 1), 0) ∷ [])) ∷ []) }) ∷ [])) s.NoBlock s.End) ≡ (RefusedAt 1 24 3)
unfolding computing
edges_117 = refl

edges_118 : body_verdict (record { predicates = ([]); specs = ((record { is_void = true; name = name_f; params = (name_p ∷ []); vars = ((name_s, sort.Int) ∷ (name_t, sort.Int) ∷ (name_v, sort.Val) ∷ (name_w, sort.Val) ∷ (name_k, sort.List) ∷ (name_m, sort.List) ∷ []); pre = (record { opened = []; facts = ([]); locals = []; items = ((Data (Var 0 sort.Int) (Var 2 sort.Val) (Var 4 sort.List)) ∷ (Data (Var 1 sort.Int) (Var 3 sort.Val) (Var 5 sort.List)) ∷ []) }); post = (record { opened = []; facts = ([]); locals = []; items = ((Data (Var 0 sort.Int) (Var 2 sort.Val) (Var 4 sort.List)) ∷ (Data (Var 1 sort.Int) (Var 3 sort.Val) (Var 5 sort.List)) ∷ []) }) }) ∷ []) }) (record { is_void = true; name = name_f; params = (name_p ∷ []); vars = ((name_s, sort.Int) ∷ (name_t, sort.Int) ∷ (name_v, sort.Val) ∷ (name_w, sort.Val) ∷ (name_k, sort.List) ∷ (name_m, sort.List) ∷ []); pre = (record { opened = []; facts = ([]); locals = []; items = ((Data (Var 0 sort.Int) (Var 2 sort.Val) (Var 4 sort.List)) ∷ (Data (Var 1 sort.Int) (Var 3 sort.Val) (Var 5 sort.List)) ∷ []) }); post = (record { opened = []; facts = ([]); locals = []; items = ((Data (Var 0 sort.Int) (Var 2 sort.Val) (Var 4 sort.List)) ∷ (Data (Var 1 sort.Int) (Var 3 sort.Val) (Var 5 sort.List)) ∷ []) }) }) (record { temps = (name_p ∷ []); body = (c.Then (c.Return None) c.End) }) (s.Then 1 (s.Have (Rel relation.Le (Number (pos 1)) (Number (pos 0))) ([])) s.NoBlock (s.Then 2 (s.Return ([]) ([]) ([])) s.NoBlock s.End)) ≡ (RefusedAt 1 25 3)
unfolding computing
edges_118 = refl

edges_119 : body_verdict (record { predicates = ([]); specs = ((record { is_void = true; name = name_f; params = (name_p ∷ []); vars = ((name_s, sort.Int) ∷ (name_t, sort.Int) ∷ (name_v, sort.Val) ∷ (name_w, sort.Val) ∷ (name_k, sort.List) ∷ (name_m, sort.List) ∷ []); pre = (record { opened = []; facts = ((Rel relation.Lt (Number (pos 0)) (Number (pos 0))) ∷ []); locals = []; items = ((Data (Var 0 sort.Int) (Var 2 sort.Val) (Var 4 sort.List)) ∷ (Data (Var 1 sort.Int) (Var 3 sort.Val) (Var 5 sort.List)) ∷ []) }); post = (record { opened = []; facts = ([]); locals = []; items = ((Data (Var 0 sort.Int) (Var 2 sort.Val) (Var 4 sort.List)) ∷ (Data (Var 1 sort.Int) (Var 3 sort.Val) (Var 5 sort.List)) ∷ []) }) }) ∷ []) }) (record { is_void = true; name = name_f; params = (name_p ∷ []); vars = ((name_s, sort.Int) ∷ (name_t, sort.Int) ∷ (name_v, sort.Val) ∷ (name_w, sort.Val) ∷ (name_k, sort.List) ∷ (name_m, sort.List) ∷ []); pre = (record { opened = []; facts = ((Rel relation.Lt (Number (pos 0)) (Number (pos 0))) ∷ []); locals = []; items = ((Data (Var 0 sort.Int) (Var 2 sort.Val) (Var 4 sort.List)) ∷ (Data (Var 1 sort.Int) (Var 3 sort.Val) (Var 5 sort.List)) ∷ []) }); post = (record { opened = []; facts = ([]); locals = []; items = ((Data (Var 0 sort.Int) (Var 2 sort.Val) (Var 4 sort.List)) ∷ (Data (Var 1 sort.Int) (Var 3 sort.Val) (Var 5 sort.List)) ∷ []) }) }) (record { temps = (name_p ∷ []); body = (c.Then (c.Return None) c.End) }) (s.Then 1 (s.Absurd ([])) s.NoBlock s.End) ≡ Accepted
unfolding computing
edges_119 = refl

edges_120 : body_verdict (record { predicates = ([]); specs = ((record { is_void = true; name = name_f; params = (name_p ∷ []); vars = ((name_s, sort.Int) ∷ (name_t, sort.Int) ∷ (name_v, sort.Val) ∷ (name_w, sort.Val) ∷ (name_k, sort.List) ∷ (name_m, sort.List) ∷ []); pre = (record { opened = []; facts = ((Rel relation.Lt (Number (pos 0)) (Number (pos 0))) ∷ []); locals = []; items = ((Data (Var 0 sort.Int) (Var 2 sort.Val) (Var 4 sort.List)) ∷ (Data (Var 1 sort.Int) (Var 3 sort.Val) (Var 5 sort.List)) ∷ []) }); post = (record { opened = []; facts = ([]); locals = []; items = ((Data (Var 0 sort.Int) (Var 2 sort.Val) (Var 4 sort.List)) ∷ (Data (Var 1 sort.Int) (Var 3 sort.Val) (Var 5 sort.List)) ∷ []) }) }) ∷ []) }) (record { is_void = true; name = name_f; params = (name_p ∷ []); vars = ((name_s, sort.Int) ∷ (name_t, sort.Int) ∷ (name_v, sort.Val) ∷ (name_w, sort.Val) ∷ (name_k, sort.List) ∷ (name_m, sort.List) ∷ []); pre = (record { opened = []; facts = ((Rel relation.Lt (Number (pos 0)) (Number (pos 0))) ∷ []); locals = []; items = ((Data (Var 0 sort.Int) (Var 2 sort.Val) (Var 4 sort.List)) ∷ (Data (Var 1 sort.Int) (Var 3 sort.Val) (Var 5 sort.List)) ∷ []) }); post = (record { opened = []; facts = ([]); locals = []; items = ((Data (Var 0 sort.Int) (Var 2 sort.Val) (Var 4 sort.List)) ∷ (Data (Var 1 sort.Int) (Var 3 sort.Val) (Var 5 sort.List)) ∷ []) }) }) (record { temps = (name_p ∷ []); body = (c.Then (c.Return None) c.End) }) (s.Then 1 (s.Absurd ((record { lines = ((line.Comb (((pos 1), 0) ∷ [])) ∷ []) }) ∷ [])) s.NoBlock s.End) ≡ (RefusedAt 1 24 3)
unfolding computing
edges_120 = refl

edges_121 : body_verdict (record { predicates = ([]); specs = ((record { is_void = true; name = name_f; params = (name_p ∷ []); vars = ((name_s, sort.Int) ∷ (name_t, sort.Int) ∷ (name_v, sort.Val) ∷ (name_w, sort.Val) ∷ (name_k, sort.List) ∷ (name_m, sort.List) ∷ []); pre = (record { opened = []; facts = ([]); locals = []; items = ((Data (Var 0 sort.Int) (Var 2 sort.Val) (Var 4 sort.List)) ∷ (Data (Var 1 sort.Int) (Var 3 sort.Val) (Var 5 sort.List)) ∷ []) }); post = (record { opened = []; facts = ([]); locals = []; items = ((Data (Var 0 sort.Int) (Var 2 sort.Val) (Var 4 sort.List)) ∷ (Data (Var 1 sort.Int) (Var 3 sort.Val) (Var 5 sort.List)) ∷ []) }) }) ∷ []) }) (record { is_void = true; name = name_f; params = (name_p ∷ []); vars = ((name_s, sort.Int) ∷ (name_t, sort.Int) ∷ (name_v, sort.Val) ∷ (name_w, sort.Val) ∷ (name_k, sort.List) ∷ (name_m, sort.List) ∷ []); pre = (record { opened = []; facts = ([]); locals = []; items = ((Data (Var 0 sort.Int) (Var 2 sort.Val) (Var 4 sort.List)) ∷ (Data (Var 1 sort.Int) (Var 3 sort.Val) (Var 5 sort.List)) ∷ []) }); post = (record { opened = []; facts = ([]); locals = []; items = ((Data (Var 0 sort.Int) (Var 2 sort.Val) (Var 4 sort.List)) ∷ (Data (Var 1 sort.Int) (Var 3 sort.Val) (Var 5 sort.List)) ∷ []) }) }) (record { temps = (name_p ∷ []); body = (c.Then (c.Return None) c.End) }) (s.Then 1 (s.Have (Rel relation.Lt (Number (pos 0)) (Number (pos 0))) ([])) s.NoBlock (s.Then 2 (s.Return ([]) ([]) ([])) s.NoBlock s.End)) ≡ (RefusedAt 1 25 3)
unfolding computing
edges_121 = refl

edges_122 : body_verdict (record { predicates = ([]); specs = ((record { is_void = true; name = name_f; params = (name_p ∷ []); vars = ((name_s, sort.Int) ∷ (name_t, sort.Int) ∷ (name_v, sort.Val) ∷ (name_w, sort.Val) ∷ (name_k, sort.List) ∷ (name_m, sort.List) ∷ []); pre = (record { opened = []; facts = ((Rel relation.Ne (Var 0 sort.Int) (Var 0 sort.Int)) ∷ []); locals = []; items = ((Data (Var 0 sort.Int) (Var 2 sort.Val) (Var 4 sort.List)) ∷ (Data (Var 1 sort.Int) (Var 3 sort.Val) (Var 5 sort.List)) ∷ []) }); post = (record { opened = []; facts = ([]); locals = []; items = ((Data (Var 0 sort.Int) (Var 2 sort.Val) (Var 4 sort.List)) ∷ (Data (Var 1 sort.Int) (Var 3 sort.Val) (Var 5 sort.List)) ∷ []) }) }) ∷ []) }) (record { is_void = true; name = name_f; params = (name_p ∷ []); vars = ((name_s, sort.Int) ∷ (name_t, sort.Int) ∷ (name_v, sort.Val) ∷ (name_w, sort.Val) ∷ (name_k, sort.List) ∷ (name_m, sort.List) ∷ []); pre = (record { opened = []; facts = ((Rel relation.Ne (Var 0 sort.Int) (Var 0 sort.Int)) ∷ []); locals = []; items = ((Data (Var 0 sort.Int) (Var 2 sort.Val) (Var 4 sort.List)) ∷ (Data (Var 1 sort.Int) (Var 3 sort.Val) (Var 5 sort.List)) ∷ []) }); post = (record { opened = []; facts = ([]); locals = []; items = ((Data (Var 0 sort.Int) (Var 2 sort.Val) (Var 4 sort.List)) ∷ (Data (Var 1 sort.Int) (Var 3 sort.Val) (Var 5 sort.List)) ∷ []) }) }) (record { temps = (name_p ∷ []); body = (c.Then (c.Return None) c.End) }) (s.Then 1 (s.Absurd ([])) s.NoBlock s.End) ≡ Accepted
unfolding computing
edges_122 = refl

edges_123 : body_verdict (record { predicates = ([]); specs = ((record { is_void = true; name = name_f; params = (name_p ∷ []); vars = ((name_s, sort.Int) ∷ (name_t, sort.Int) ∷ (name_v, sort.Val) ∷ (name_w, sort.Val) ∷ (name_k, sort.List) ∷ (name_m, sort.List) ∷ []); pre = (record { opened = []; facts = ((Rel relation.Ne (Var 0 sort.Int) (Var 0 sort.Int)) ∷ []); locals = []; items = ((Data (Var 0 sort.Int) (Var 2 sort.Val) (Var 4 sort.List)) ∷ (Data (Var 1 sort.Int) (Var 3 sort.Val) (Var 5 sort.List)) ∷ []) }); post = (record { opened = []; facts = ([]); locals = []; items = ((Data (Var 0 sort.Int) (Var 2 sort.Val) (Var 4 sort.List)) ∷ (Data (Var 1 sort.Int) (Var 3 sort.Val) (Var 5 sort.List)) ∷ []) }) }) ∷ []) }) (record { is_void = true; name = name_f; params = (name_p ∷ []); vars = ((name_s, sort.Int) ∷ (name_t, sort.Int) ∷ (name_v, sort.Val) ∷ (name_w, sort.Val) ∷ (name_k, sort.List) ∷ (name_m, sort.List) ∷ []); pre = (record { opened = []; facts = ((Rel relation.Ne (Var 0 sort.Int) (Var 0 sort.Int)) ∷ []); locals = []; items = ((Data (Var 0 sort.Int) (Var 2 sort.Val) (Var 4 sort.List)) ∷ (Data (Var 1 sort.Int) (Var 3 sort.Val) (Var 5 sort.List)) ∷ []) }); post = (record { opened = []; facts = ([]); locals = []; items = ((Data (Var 0 sort.Int) (Var 2 sort.Val) (Var 4 sort.List)) ∷ (Data (Var 1 sort.Int) (Var 3 sort.Val) (Var 5 sort.List)) ∷ []) }) }) (record { temps = (name_p ∷ []); body = (c.Then (c.Return None) c.End) }) (s.Then 1 (s.Absurd ((record { lines = ((line.Comb (((pos 1), 0) ∷ [])) ∷ []) }) ∷ [])) s.NoBlock s.End) ≡ (RefusedAt 1 24 3)
unfolding computing
edges_123 = refl

edges_124 : body_verdict (record { predicates = ([]); specs = ((record { is_void = true; name = name_f; params = (name_p ∷ []); vars = ((name_s, sort.Int) ∷ (name_t, sort.Int) ∷ (name_v, sort.Val) ∷ (name_w, sort.Val) ∷ (name_k, sort.List) ∷ (name_m, sort.List) ∷ []); pre = (record { opened = []; facts = ([]); locals = []; items = ((Data (Var 0 sort.Int) (Var 2 sort.Val) (Var 4 sort.List)) ∷ (Data (Var 1 sort.Int) (Var 3 sort.Val) (Var 5 sort.List)) ∷ []) }); post = (record { opened = []; facts = ([]); locals = []; items = ((Data (Var 0 sort.Int) (Var 2 sort.Val) (Var 4 sort.List)) ∷ (Data (Var 1 sort.Int) (Var 3 sort.Val) (Var 5 sort.List)) ∷ []) }) }) ∷ []) }) (record { is_void = true; name = name_f; params = (name_p ∷ []); vars = ((name_s, sort.Int) ∷ (name_t, sort.Int) ∷ (name_v, sort.Val) ∷ (name_w, sort.Val) ∷ (name_k, sort.List) ∷ (name_m, sort.List) ∷ []); pre = (record { opened = []; facts = ([]); locals = []; items = ((Data (Var 0 sort.Int) (Var 2 sort.Val) (Var 4 sort.List)) ∷ (Data (Var 1 sort.Int) (Var 3 sort.Val) (Var 5 sort.List)) ∷ []) }); post = (record { opened = []; facts = ([]); locals = []; items = ((Data (Var 0 sort.Int) (Var 2 sort.Val) (Var 4 sort.List)) ∷ (Data (Var 1 sort.Int) (Var 3 sort.Val) (Var 5 sort.List)) ∷ []) }) }) (record { temps = (name_p ∷ []); body = (c.Then (c.Return None) c.End) }) (s.Then 1 (s.Have (Rel relation.Ne (Named name_s) (Named name_s)) ([])) s.NoBlock (s.Then 2 (s.Return ([]) ([]) ([])) s.NoBlock s.End)) ≡ (RefusedAt 1 25 3)
unfolding computing
edges_124 = refl

edges_125 : body_verdict (record { predicates = ([]); specs = ((record { is_void = true; name = name_f; params = (name_p ∷ []); vars = ((name_s, sort.Int) ∷ (name_t, sort.Int) ∷ (name_v, sort.Val) ∷ (name_w, sort.Val) ∷ (name_k, sort.List) ∷ (name_m, sort.List) ∷ []); pre = (record { opened = []; facts = ((Rel relation.Eq Nil (Of2 binary.Cons (Var 2 sort.Val) (Var 4 sort.List))) ∷ []); locals = []; items = ((Data (Var 0 sort.Int) (Var 2 sort.Val) (Var 4 sort.List)) ∷ (Data (Var 1 sort.Int) (Var 3 sort.Val) (Var 5 sort.List)) ∷ []) }); post = (record { opened = []; facts = ([]); locals = []; items = ((Data (Var 0 sort.Int) (Var 2 sort.Val) (Var 4 sort.List)) ∷ (Data (Var 1 sort.Int) (Var 3 sort.Val) (Var 5 sort.List)) ∷ []) }) }) ∷ []) }) (record { is_void = true; name = name_f; params = (name_p ∷ []); vars = ((name_s, sort.Int) ∷ (name_t, sort.Int) ∷ (name_v, sort.Val) ∷ (name_w, sort.Val) ∷ (name_k, sort.List) ∷ (name_m, sort.List) ∷ []); pre = (record { opened = []; facts = ((Rel relation.Eq Nil (Of2 binary.Cons (Var 2 sort.Val) (Var 4 sort.List))) ∷ []); locals = []; items = ((Data (Var 0 sort.Int) (Var 2 sort.Val) (Var 4 sort.List)) ∷ (Data (Var 1 sort.Int) (Var 3 sort.Val) (Var 5 sort.List)) ∷ []) }); post = (record { opened = []; facts = ([]); locals = []; items = ((Data (Var 0 sort.Int) (Var 2 sort.Val) (Var 4 sort.List)) ∷ (Data (Var 1 sort.Int) (Var 3 sort.Val) (Var 5 sort.List)) ∷ []) }) }) (record { temps = (name_p ∷ []); body = (c.Then (c.Return None) c.End) }) (s.Then 1 (s.Absurd ([])) s.NoBlock s.End) ≡ Accepted
unfolding computing
edges_125 = refl

edges_126 : body_verdict (record { predicates = ([]); specs = ((record { is_void = true; name = name_f; params = (name_p ∷ []); vars = ((name_s, sort.Int) ∷ (name_t, sort.Int) ∷ (name_v, sort.Val) ∷ (name_w, sort.Val) ∷ (name_k, sort.List) ∷ (name_m, sort.List) ∷ []); pre = (record { opened = []; facts = ((Rel relation.Eq Nil (Of2 binary.Cons (Var 2 sort.Val) (Var 4 sort.List))) ∷ []); locals = []; items = ((Data (Var 0 sort.Int) (Var 2 sort.Val) (Var 4 sort.List)) ∷ (Data (Var 1 sort.Int) (Var 3 sort.Val) (Var 5 sort.List)) ∷ []) }); post = (record { opened = []; facts = ([]); locals = []; items = ((Data (Var 0 sort.Int) (Var 2 sort.Val) (Var 4 sort.List)) ∷ (Data (Var 1 sort.Int) (Var 3 sort.Val) (Var 5 sort.List)) ∷ []) }) }) ∷ []) }) (record { is_void = true; name = name_f; params = (name_p ∷ []); vars = ((name_s, sort.Int) ∷ (name_t, sort.Int) ∷ (name_v, sort.Val) ∷ (name_w, sort.Val) ∷ (name_k, sort.List) ∷ (name_m, sort.List) ∷ []); pre = (record { opened = []; facts = ((Rel relation.Eq Nil (Of2 binary.Cons (Var 2 sort.Val) (Var 4 sort.List))) ∷ []); locals = []; items = ((Data (Var 0 sort.Int) (Var 2 sort.Val) (Var 4 sort.List)) ∷ (Data (Var 1 sort.Int) (Var 3 sort.Val) (Var 5 sort.List)) ∷ []) }); post = (record { opened = []; facts = ([]); locals = []; items = ((Data (Var 0 sort.Int) (Var 2 sort.Val) (Var 4 sort.List)) ∷ (Data (Var 1 sort.Int) (Var 3 sort.Val) (Var 5 sort.List)) ∷ []) }) }) (record { temps = (name_p ∷ []); body = (c.Then (c.Return None) c.End) }) (s.Then 1 (s.Absurd ((record { lines = ((line.Comb (((pos 1), 0) ∷ [])) ∷ []) }) ∷ [])) s.NoBlock s.End) ≡ (RefusedAt 1 24 3)
unfolding computing
edges_126 = refl

edges_127 : body_verdict (record { predicates = ([]); specs = ((record { is_void = true; name = name_f; params = (name_p ∷ []); vars = ((name_s, sort.Int) ∷ (name_t, sort.Int) ∷ (name_v, sort.Val) ∷ (name_w, sort.Val) ∷ (name_k, sort.List) ∷ (name_m, sort.List) ∷ []); pre = (record { opened = []; facts = ([]); locals = []; items = ((Data (Var 0 sort.Int) (Var 2 sort.Val) (Var 4 sort.List)) ∷ (Data (Var 1 sort.Int) (Var 3 sort.Val) (Var 5 sort.List)) ∷ []) }); post = (record { opened = []; facts = ([]); locals = []; items = ((Data (Var 0 sort.Int) (Var 2 sort.Val) (Var 4 sort.List)) ∷ (Data (Var 1 sort.Int) (Var 3 sort.Val) (Var 5 sort.List)) ∷ []) }) }) ∷ []) }) (record { is_void = true; name = name_f; params = (name_p ∷ []); vars = ((name_s, sort.Int) ∷ (name_t, sort.Int) ∷ (name_v, sort.Val) ∷ (name_w, sort.Val) ∷ (name_k, sort.List) ∷ (name_m, sort.List) ∷ []); pre = (record { opened = []; facts = ([]); locals = []; items = ((Data (Var 0 sort.Int) (Var 2 sort.Val) (Var 4 sort.List)) ∷ (Data (Var 1 sort.Int) (Var 3 sort.Val) (Var 5 sort.List)) ∷ []) }); post = (record { opened = []; facts = ([]); locals = []; items = ((Data (Var 0 sort.Int) (Var 2 sort.Val) (Var 4 sort.List)) ∷ (Data (Var 1 sort.Int) (Var 3 sort.Val) (Var 5 sort.List)) ∷ []) }) }) (record { temps = (name_p ∷ []); body = (c.Then (c.Return None) c.End) }) (s.Then 1 (s.Have (Rel relation.Eq Nil (Of2 binary.Cons (Named name_v) (Named name_k))) ([])) s.NoBlock (s.Then 2 (s.Return ([]) ([]) ([])) s.NoBlock s.End)) ≡ (RefusedAt 1 25 3)
unfolding computing
edges_127 = refl

edges_128 : body_verdict (record { predicates = ([]); specs = ((record { is_void = true; name = name_f; params = (name_p ∷ []); vars = ((name_s, sort.Int) ∷ (name_t, sort.Int) ∷ (name_v, sort.Val) ∷ (name_w, sort.Val) ∷ (name_k, sort.List) ∷ (name_m, sort.List) ∷ []); pre = (record { opened = []; facts = ((Rel relation.Eq (Of2 binary.Cons (Var 2 sort.Val) (Var 4 sort.List)) Nil) ∷ []); locals = []; items = ((Data (Var 0 sort.Int) (Var 2 sort.Val) (Var 4 sort.List)) ∷ (Data (Var 1 sort.Int) (Var 3 sort.Val) (Var 5 sort.List)) ∷ []) }); post = (record { opened = []; facts = ([]); locals = []; items = ((Data (Var 0 sort.Int) (Var 2 sort.Val) (Var 4 sort.List)) ∷ (Data (Var 1 sort.Int) (Var 3 sort.Val) (Var 5 sort.List)) ∷ []) }) }) ∷ []) }) (record { is_void = true; name = name_f; params = (name_p ∷ []); vars = ((name_s, sort.Int) ∷ (name_t, sort.Int) ∷ (name_v, sort.Val) ∷ (name_w, sort.Val) ∷ (name_k, sort.List) ∷ (name_m, sort.List) ∷ []); pre = (record { opened = []; facts = ((Rel relation.Eq (Of2 binary.Cons (Var 2 sort.Val) (Var 4 sort.List)) Nil) ∷ []); locals = []; items = ((Data (Var 0 sort.Int) (Var 2 sort.Val) (Var 4 sort.List)) ∷ (Data (Var 1 sort.Int) (Var 3 sort.Val) (Var 5 sort.List)) ∷ []) }); post = (record { opened = []; facts = ([]); locals = []; items = ((Data (Var 0 sort.Int) (Var 2 sort.Val) (Var 4 sort.List)) ∷ (Data (Var 1 sort.Int) (Var 3 sort.Val) (Var 5 sort.List)) ∷ []) }) }) (record { temps = (name_p ∷ []); body = (c.Then (c.Return None) c.End) }) (s.Then 1 (s.Absurd ([])) s.NoBlock s.End) ≡ Accepted
unfolding computing
edges_128 = refl

edges_129 : body_verdict (record { predicates = ([]); specs = ((record { is_void = true; name = name_f; params = (name_p ∷ []); vars = ((name_s, sort.Int) ∷ (name_t, sort.Int) ∷ (name_v, sort.Val) ∷ (name_w, sort.Val) ∷ (name_k, sort.List) ∷ (name_m, sort.List) ∷ []); pre = (record { opened = []; facts = ((Rel relation.Eq (Of2 binary.Cons (Var 2 sort.Val) (Var 4 sort.List)) Nil) ∷ []); locals = []; items = ((Data (Var 0 sort.Int) (Var 2 sort.Val) (Var 4 sort.List)) ∷ (Data (Var 1 sort.Int) (Var 3 sort.Val) (Var 5 sort.List)) ∷ []) }); post = (record { opened = []; facts = ([]); locals = []; items = ((Data (Var 0 sort.Int) (Var 2 sort.Val) (Var 4 sort.List)) ∷ (Data (Var 1 sort.Int) (Var 3 sort.Val) (Var 5 sort.List)) ∷ []) }) }) ∷ []) }) (record { is_void = true; name = name_f; params = (name_p ∷ []); vars = ((name_s, sort.Int) ∷ (name_t, sort.Int) ∷ (name_v, sort.Val) ∷ (name_w, sort.Val) ∷ (name_k, sort.List) ∷ (name_m, sort.List) ∷ []); pre = (record { opened = []; facts = ((Rel relation.Eq (Of2 binary.Cons (Var 2 sort.Val) (Var 4 sort.List)) Nil) ∷ []); locals = []; items = ((Data (Var 0 sort.Int) (Var 2 sort.Val) (Var 4 sort.List)) ∷ (Data (Var 1 sort.Int) (Var 3 sort.Val) (Var 5 sort.List)) ∷ []) }); post = (record { opened = []; facts = ([]); locals = []; items = ((Data (Var 0 sort.Int) (Var 2 sort.Val) (Var 4 sort.List)) ∷ (Data (Var 1 sort.Int) (Var 3 sort.Val) (Var 5 sort.List)) ∷ []) }) }) (record { temps = (name_p ∷ []); body = (c.Then (c.Return None) c.End) }) (s.Then 1 (s.Absurd ((record { lines = ((line.Comb (((pos 1), 0) ∷ [])) ∷ []) }) ∷ [])) s.NoBlock s.End) ≡ (RefusedAt 1 24 3)
unfolding computing
edges_129 = refl

edges_130 : body_verdict (record { predicates = ([]); specs = ((record { is_void = true; name = name_f; params = (name_p ∷ []); vars = ((name_s, sort.Int) ∷ (name_t, sort.Int) ∷ (name_v, sort.Val) ∷ (name_w, sort.Val) ∷ (name_k, sort.List) ∷ (name_m, sort.List) ∷ []); pre = (record { opened = []; facts = ([]); locals = []; items = ((Data (Var 0 sort.Int) (Var 2 sort.Val) (Var 4 sort.List)) ∷ (Data (Var 1 sort.Int) (Var 3 sort.Val) (Var 5 sort.List)) ∷ []) }); post = (record { opened = []; facts = ([]); locals = []; items = ((Data (Var 0 sort.Int) (Var 2 sort.Val) (Var 4 sort.List)) ∷ (Data (Var 1 sort.Int) (Var 3 sort.Val) (Var 5 sort.List)) ∷ []) }) }) ∷ []) }) (record { is_void = true; name = name_f; params = (name_p ∷ []); vars = ((name_s, sort.Int) ∷ (name_t, sort.Int) ∷ (name_v, sort.Val) ∷ (name_w, sort.Val) ∷ (name_k, sort.List) ∷ (name_m, sort.List) ∷ []); pre = (record { opened = []; facts = ([]); locals = []; items = ((Data (Var 0 sort.Int) (Var 2 sort.Val) (Var 4 sort.List)) ∷ (Data (Var 1 sort.Int) (Var 3 sort.Val) (Var 5 sort.List)) ∷ []) }); post = (record { opened = []; facts = ([]); locals = []; items = ((Data (Var 0 sort.Int) (Var 2 sort.Val) (Var 4 sort.List)) ∷ (Data (Var 1 sort.Int) (Var 3 sort.Val) (Var 5 sort.List)) ∷ []) }) }) (record { temps = (name_p ∷ []); body = (c.Then (c.Return None) c.End) }) (s.Then 1 (s.Have (Rel relation.Eq (Of2 binary.Cons (Named name_v) (Named name_k)) Nil) ([])) s.NoBlock (s.Then 2 (s.Return ([]) ([]) ([])) s.NoBlock s.End)) ≡ (RefusedAt 1 25 3)
unfolding computing
edges_130 = refl

edges_131 : body_verdict (record { predicates = ([]); specs = ((record { is_void = true; name = name_f; params = (name_p ∷ []); vars = ((name_s, sort.Int) ∷ (name_t, sort.Int) ∷ (name_v, sort.Val) ∷ (name_w, sort.Val) ∷ (name_k, sort.List) ∷ (name_m, sort.List) ∷ []); pre = (record { opened = []; facts = ((Rel relation.Eq (Of unary.Vi (Number (pos 1))) (Of unary.Vi (Number (pos 2)))) ∷ []); locals = []; items = ((Data (Var 0 sort.Int) (Var 2 sort.Val) (Var 4 sort.List)) ∷ (Data (Var 1 sort.Int) (Var 3 sort.Val) (Var 5 sort.List)) ∷ []) }); post = (record { opened = []; facts = ([]); locals = []; items = ((Data (Var 0 sort.Int) (Var 2 sort.Val) (Var 4 sort.List)) ∷ (Data (Var 1 sort.Int) (Var 3 sort.Val) (Var 5 sort.List)) ∷ []) }) }) ∷ []) }) (record { is_void = true; name = name_f; params = (name_p ∷ []); vars = ((name_s, sort.Int) ∷ (name_t, sort.Int) ∷ (name_v, sort.Val) ∷ (name_w, sort.Val) ∷ (name_k, sort.List) ∷ (name_m, sort.List) ∷ []); pre = (record { opened = []; facts = ((Rel relation.Eq (Of unary.Vi (Number (pos 1))) (Of unary.Vi (Number (pos 2)))) ∷ []); locals = []; items = ((Data (Var 0 sort.Int) (Var 2 sort.Val) (Var 4 sort.List)) ∷ (Data (Var 1 sort.Int) (Var 3 sort.Val) (Var 5 sort.List)) ∷ []) }); post = (record { opened = []; facts = ([]); locals = []; items = ((Data (Var 0 sort.Int) (Var 2 sort.Val) (Var 4 sort.List)) ∷ (Data (Var 1 sort.Int) (Var 3 sort.Val) (Var 5 sort.List)) ∷ []) }) }) (record { temps = (name_p ∷ []); body = (c.Then (c.Return None) c.End) }) (s.Then 1 (s.Absurd ([])) s.NoBlock s.End) ≡ Accepted
unfolding computing
edges_131 = refl

edges_132 : body_verdict (record { predicates = ([]); specs = ((record { is_void = true; name = name_f; params = (name_p ∷ []); vars = ((name_s, sort.Int) ∷ (name_t, sort.Int) ∷ (name_v, sort.Val) ∷ (name_w, sort.Val) ∷ (name_k, sort.List) ∷ (name_m, sort.List) ∷ []); pre = (record { opened = []; facts = ((Rel relation.Eq (Of unary.Vi (Number (pos 1))) (Of unary.Vi (Number (pos 2)))) ∷ []); locals = []; items = ((Data (Var 0 sort.Int) (Var 2 sort.Val) (Var 4 sort.List)) ∷ (Data (Var 1 sort.Int) (Var 3 sort.Val) (Var 5 sort.List)) ∷ []) }); post = (record { opened = []; facts = ([]); locals = []; items = ((Data (Var 0 sort.Int) (Var 2 sort.Val) (Var 4 sort.List)) ∷ (Data (Var 1 sort.Int) (Var 3 sort.Val) (Var 5 sort.List)) ∷ []) }) }) ∷ []) }) (record { is_void = true; name = name_f; params = (name_p ∷ []); vars = ((name_s, sort.Int) ∷ (name_t, sort.Int) ∷ (name_v, sort.Val) ∷ (name_w, sort.Val) ∷ (name_k, sort.List) ∷ (name_m, sort.List) ∷ []); pre = (record { opened = []; facts = ((Rel relation.Eq (Of unary.Vi (Number (pos 1))) (Of unary.Vi (Number (pos 2)))) ∷ []); locals = []; items = ((Data (Var 0 sort.Int) (Var 2 sort.Val) (Var 4 sort.List)) ∷ (Data (Var 1 sort.Int) (Var 3 sort.Val) (Var 5 sort.List)) ∷ []) }); post = (record { opened = []; facts = ([]); locals = []; items = ((Data (Var 0 sort.Int) (Var 2 sort.Val) (Var 4 sort.List)) ∷ (Data (Var 1 sort.Int) (Var 3 sort.Val) (Var 5 sort.List)) ∷ []) }) }) (record { temps = (name_p ∷ []); body = (c.Then (c.Return None) c.End) }) (s.Then 1 (s.Absurd ((record { lines = ((line.Comb (((pos 1), 0) ∷ [])) ∷ []) }) ∷ [])) s.NoBlock s.End) ≡ (RefusedAt 1 24 3)
unfolding computing
edges_132 = refl

edges_133 : body_verdict (record { predicates = ([]); specs = ((record { is_void = true; name = name_f; params = (name_p ∷ []); vars = ((name_s, sort.Int) ∷ (name_t, sort.Int) ∷ (name_v, sort.Val) ∷ (name_w, sort.Val) ∷ (name_k, sort.List) ∷ (name_m, sort.List) ∷ []); pre = (record { opened = []; facts = ([]); locals = []; items = ((Data (Var 0 sort.Int) (Var 2 sort.Val) (Var 4 sort.List)) ∷ (Data (Var 1 sort.Int) (Var 3 sort.Val) (Var 5 sort.List)) ∷ []) }); post = (record { opened = []; facts = ([]); locals = []; items = ((Data (Var 0 sort.Int) (Var 2 sort.Val) (Var 4 sort.List)) ∷ (Data (Var 1 sort.Int) (Var 3 sort.Val) (Var 5 sort.List)) ∷ []) }) }) ∷ []) }) (record { is_void = true; name = name_f; params = (name_p ∷ []); vars = ((name_s, sort.Int) ∷ (name_t, sort.Int) ∷ (name_v, sort.Val) ∷ (name_w, sort.Val) ∷ (name_k, sort.List) ∷ (name_m, sort.List) ∷ []); pre = (record { opened = []; facts = ([]); locals = []; items = ((Data (Var 0 sort.Int) (Var 2 sort.Val) (Var 4 sort.List)) ∷ (Data (Var 1 sort.Int) (Var 3 sort.Val) (Var 5 sort.List)) ∷ []) }); post = (record { opened = []; facts = ([]); locals = []; items = ((Data (Var 0 sort.Int) (Var 2 sort.Val) (Var 4 sort.List)) ∷ (Data (Var 1 sort.Int) (Var 3 sort.Val) (Var 5 sort.List)) ∷ []) }) }) (record { temps = (name_p ∷ []); body = (c.Then (c.Return None) c.End) }) (s.Then 1 (s.Have (Rel relation.Eq (Of unary.Vi (Number (pos 1))) (Of unary.Vi (Number (pos 2)))) ([])) s.NoBlock (s.Then 2 (s.Return ([]) ([]) ([])) s.NoBlock s.End)) ≡ (RefusedAt 1 25 3)
unfolding computing
edges_133 = refl

edges_134 : body_verdict (record { predicates = ([]); specs = ((record { is_void = true; name = name_f; params = (name_p ∷ []); vars = ((name_s, sort.Int) ∷ (name_t, sort.Int) ∷ (name_v, sort.Val) ∷ (name_w, sort.Val) ∷ (name_k, sort.List) ∷ (name_m, sort.List) ∷ []); pre = (record { opened = []; facts = ((Rel relation.Eq (Of unary.Vi (Number (pos 1))) (Of unary.Vi (Number (pos 4294967297)))) ∷ []); locals = []; items = ((Data (Var 0 sort.Int) (Var 2 sort.Val) (Var 4 sort.List)) ∷ (Data (Var 1 sort.Int) (Var 3 sort.Val) (Var 5 sort.List)) ∷ []) }); post = (record { opened = []; facts = ([]); locals = []; items = ((Data (Var 0 sort.Int) (Var 2 sort.Val) (Var 4 sort.List)) ∷ (Data (Var 1 sort.Int) (Var 3 sort.Val) (Var 5 sort.List)) ∷ []) }) }) ∷ []) }) (record { is_void = true; name = name_f; params = (name_p ∷ []); vars = ((name_s, sort.Int) ∷ (name_t, sort.Int) ∷ (name_v, sort.Val) ∷ (name_w, sort.Val) ∷ (name_k, sort.List) ∷ (name_m, sort.List) ∷ []); pre = (record { opened = []; facts = ((Rel relation.Eq (Of unary.Vi (Number (pos 1))) (Of unary.Vi (Number (pos 4294967297)))) ∷ []); locals = []; items = ((Data (Var 0 sort.Int) (Var 2 sort.Val) (Var 4 sort.List)) ∷ (Data (Var 1 sort.Int) (Var 3 sort.Val) (Var 5 sort.List)) ∷ []) }); post = (record { opened = []; facts = ([]); locals = []; items = ((Data (Var 0 sort.Int) (Var 2 sort.Val) (Var 4 sort.List)) ∷ (Data (Var 1 sort.Int) (Var 3 sort.Val) (Var 5 sort.List)) ∷ []) }) }) (record { temps = (name_p ∷ []); body = (c.Then (c.Return None) c.End) }) (s.Then 1 (s.Absurd ([])) s.NoBlock s.End) ≡ (RefusedAt 1 24 3)
unfolding computing
edges_134 = refl

edges_135 : body_verdict (record { predicates = ([]); specs = ((record { is_void = true; name = name_f; params = (name_p ∷ []); vars = ((name_s, sort.Int) ∷ (name_t, sort.Int) ∷ (name_v, sort.Val) ∷ (name_w, sort.Val) ∷ (name_k, sort.List) ∷ (name_m, sort.List) ∷ []); pre = (record { opened = []; facts = ((Rel relation.Eq (Of unary.Vi (Number (pos 1))) (Of unary.Vi (Number (pos 4294967297)))) ∷ []); locals = []; items = ((Data (Var 0 sort.Int) (Var 2 sort.Val) (Var 4 sort.List)) ∷ (Data (Var 1 sort.Int) (Var 3 sort.Val) (Var 5 sort.List)) ∷ []) }); post = (record { opened = []; facts = ([]); locals = []; items = ((Data (Var 0 sort.Int) (Var 2 sort.Val) (Var 4 sort.List)) ∷ (Data (Var 1 sort.Int) (Var 3 sort.Val) (Var 5 sort.List)) ∷ []) }) }) ∷ []) }) (record { is_void = true; name = name_f; params = (name_p ∷ []); vars = ((name_s, sort.Int) ∷ (name_t, sort.Int) ∷ (name_v, sort.Val) ∷ (name_w, sort.Val) ∷ (name_k, sort.List) ∷ (name_m, sort.List) ∷ []); pre = (record { opened = []; facts = ((Rel relation.Eq (Of unary.Vi (Number (pos 1))) (Of unary.Vi (Number (pos 4294967297)))) ∷ []); locals = []; items = ((Data (Var 0 sort.Int) (Var 2 sort.Val) (Var 4 sort.List)) ∷ (Data (Var 1 sort.Int) (Var 3 sort.Val) (Var 5 sort.List)) ∷ []) }); post = (record { opened = []; facts = ([]); locals = []; items = ((Data (Var 0 sort.Int) (Var 2 sort.Val) (Var 4 sort.List)) ∷ (Data (Var 1 sort.Int) (Var 3 sort.Val) (Var 5 sort.List)) ∷ []) }) }) (record { temps = (name_p ∷ []); body = (c.Then (c.Return None) c.End) }) (s.Then 1 (s.Absurd ((record { lines = ((line.Comb (((pos 1), 0) ∷ [])) ∷ []) }) ∷ [])) s.NoBlock s.End) ≡ (RefusedAt 1 24 3)
unfolding computing
edges_135 = refl

edges_136 : body_verdict (record { predicates = ([]); specs = ((record { is_void = true; name = name_f; params = (name_p ∷ []); vars = ((name_s, sort.Int) ∷ (name_t, sort.Int) ∷ (name_v, sort.Val) ∷ (name_w, sort.Val) ∷ (name_k, sort.List) ∷ (name_m, sort.List) ∷ []); pre = (record { opened = []; facts = ([]); locals = []; items = ((Data (Var 0 sort.Int) (Var 2 sort.Val) (Var 4 sort.List)) ∷ (Data (Var 1 sort.Int) (Var 3 sort.Val) (Var 5 sort.List)) ∷ []) }); post = (record { opened = []; facts = ([]); locals = []; items = ((Data (Var 0 sort.Int) (Var 2 sort.Val) (Var 4 sort.List)) ∷ (Data (Var 1 sort.Int) (Var 3 sort.Val) (Var 5 sort.List)) ∷ []) }) }) ∷ []) }) (record { is_void = true; name = name_f; params = (name_p ∷ []); vars = ((name_s, sort.Int) ∷ (name_t, sort.Int) ∷ (name_v, sort.Val) ∷ (name_w, sort.Val) ∷ (name_k, sort.List) ∷ (name_m, sort.List) ∷ []); pre = (record { opened = []; facts = ([]); locals = []; items = ((Data (Var 0 sort.Int) (Var 2 sort.Val) (Var 4 sort.List)) ∷ (Data (Var 1 sort.Int) (Var 3 sort.Val) (Var 5 sort.List)) ∷ []) }); post = (record { opened = []; facts = ([]); locals = []; items = ((Data (Var 0 sort.Int) (Var 2 sort.Val) (Var 4 sort.List)) ∷ (Data (Var 1 sort.Int) (Var 3 sort.Val) (Var 5 sort.List)) ∷ []) }) }) (record { temps = (name_p ∷ []); body = (c.Then (c.Return None) c.End) }) (s.Then 1 (s.Have (Rel relation.Eq (Of unary.Vi (Number (pos 1))) (Of unary.Vi (Number (pos 4294967297)))) ([])) s.NoBlock (s.Then 2 (s.Return ([]) ([]) ([])) s.NoBlock s.End)) ≡ Accepted
unfolding computing
edges_136 = refl

edges_137 : body_verdict (record { predicates = ([]); specs = ((record { is_void = true; name = name_f; params = (name_p ∷ []); vars = ((name_s, sort.Int) ∷ (name_t, sort.Int) ∷ (name_v, sort.Val) ∷ (name_w, sort.Val) ∷ (name_k, sort.List) ∷ (name_m, sort.List) ∷ []); pre = (record { opened = []; facts = ((IsPtr (Of unary.Vi (Var 0 sort.Int))) ∷ []); locals = []; items = ((Data (Var 0 sort.Int) (Var 2 sort.Val) (Var 4 sort.List)) ∷ (Data (Var 1 sort.Int) (Var 3 sort.Val) (Var 5 sort.List)) ∷ []) }); post = (record { opened = []; facts = ([]); locals = []; items = ((Data (Var 0 sort.Int) (Var 2 sort.Val) (Var 4 sort.List)) ∷ (Data (Var 1 sort.Int) (Var 3 sort.Val) (Var 5 sort.List)) ∷ []) }) }) ∷ []) }) (record { is_void = true; name = name_f; params = (name_p ∷ []); vars = ((name_s, sort.Int) ∷ (name_t, sort.Int) ∷ (name_v, sort.Val) ∷ (name_w, sort.Val) ∷ (name_k, sort.List) ∷ (name_m, sort.List) ∷ []); pre = (record { opened = []; facts = ((IsPtr (Of unary.Vi (Var 0 sort.Int))) ∷ []); locals = []; items = ((Data (Var 0 sort.Int) (Var 2 sort.Val) (Var 4 sort.List)) ∷ (Data (Var 1 sort.Int) (Var 3 sort.Val) (Var 5 sort.List)) ∷ []) }); post = (record { opened = []; facts = ([]); locals = []; items = ((Data (Var 0 sort.Int) (Var 2 sort.Val) (Var 4 sort.List)) ∷ (Data (Var 1 sort.Int) (Var 3 sort.Val) (Var 5 sort.List)) ∷ []) }) }) (record { temps = (name_p ∷ []); body = (c.Then (c.Return None) c.End) }) (s.Then 1 (s.Absurd ([])) s.NoBlock s.End) ≡ Accepted
unfolding computing
edges_137 = refl

edges_138 : body_verdict (record { predicates = ([]); specs = ((record { is_void = true; name = name_f; params = (name_p ∷ []); vars = ((name_s, sort.Int) ∷ (name_t, sort.Int) ∷ (name_v, sort.Val) ∷ (name_w, sort.Val) ∷ (name_k, sort.List) ∷ (name_m, sort.List) ∷ []); pre = (record { opened = []; facts = ((IsPtr (Of unary.Vi (Var 0 sort.Int))) ∷ []); locals = []; items = ((Data (Var 0 sort.Int) (Var 2 sort.Val) (Var 4 sort.List)) ∷ (Data (Var 1 sort.Int) (Var 3 sort.Val) (Var 5 sort.List)) ∷ []) }); post = (record { opened = []; facts = ([]); locals = []; items = ((Data (Var 0 sort.Int) (Var 2 sort.Val) (Var 4 sort.List)) ∷ (Data (Var 1 sort.Int) (Var 3 sort.Val) (Var 5 sort.List)) ∷ []) }) }) ∷ []) }) (record { is_void = true; name = name_f; params = (name_p ∷ []); vars = ((name_s, sort.Int) ∷ (name_t, sort.Int) ∷ (name_v, sort.Val) ∷ (name_w, sort.Val) ∷ (name_k, sort.List) ∷ (name_m, sort.List) ∷ []); pre = (record { opened = []; facts = ((IsPtr (Of unary.Vi (Var 0 sort.Int))) ∷ []); locals = []; items = ((Data (Var 0 sort.Int) (Var 2 sort.Val) (Var 4 sort.List)) ∷ (Data (Var 1 sort.Int) (Var 3 sort.Val) (Var 5 sort.List)) ∷ []) }); post = (record { opened = []; facts = ([]); locals = []; items = ((Data (Var 0 sort.Int) (Var 2 sort.Val) (Var 4 sort.List)) ∷ (Data (Var 1 sort.Int) (Var 3 sort.Val) (Var 5 sort.List)) ∷ []) }) }) (record { temps = (name_p ∷ []); body = (c.Then (c.Return None) c.End) }) (s.Then 1 (s.Absurd ((record { lines = ((line.Comb (((pos 1), 0) ∷ [])) ∷ []) }) ∷ [])) s.NoBlock s.End) ≡ (RefusedAt 1 24 3)
unfolding computing
edges_138 = refl

edges_139 : body_verdict (record { predicates = ([]); specs = ((record { is_void = true; name = name_f; params = (name_p ∷ []); vars = ((name_s, sort.Int) ∷ (name_t, sort.Int) ∷ (name_v, sort.Val) ∷ (name_w, sort.Val) ∷ (name_k, sort.List) ∷ (name_m, sort.List) ∷ []); pre = (record { opened = []; facts = ([]); locals = []; items = ((Data (Var 0 sort.Int) (Var 2 sort.Val) (Var 4 sort.List)) ∷ (Data (Var 1 sort.Int) (Var 3 sort.Val) (Var 5 sort.List)) ∷ []) }); post = (record { opened = []; facts = ([]); locals = []; items = ((Data (Var 0 sort.Int) (Var 2 sort.Val) (Var 4 sort.List)) ∷ (Data (Var 1 sort.Int) (Var 3 sort.Val) (Var 5 sort.List)) ∷ []) }) }) ∷ []) }) (record { is_void = true; name = name_f; params = (name_p ∷ []); vars = ((name_s, sort.Int) ∷ (name_t, sort.Int) ∷ (name_v, sort.Val) ∷ (name_w, sort.Val) ∷ (name_k, sort.List) ∷ (name_m, sort.List) ∷ []); pre = (record { opened = []; facts = ([]); locals = []; items = ((Data (Var 0 sort.Int) (Var 2 sort.Val) (Var 4 sort.List)) ∷ (Data (Var 1 sort.Int) (Var 3 sort.Val) (Var 5 sort.List)) ∷ []) }); post = (record { opened = []; facts = ([]); locals = []; items = ((Data (Var 0 sort.Int) (Var 2 sort.Val) (Var 4 sort.List)) ∷ (Data (Var 1 sort.Int) (Var 3 sort.Val) (Var 5 sort.List)) ∷ []) }) }) (record { temps = (name_p ∷ []); body = (c.Then (c.Return None) c.End) }) (s.Then 1 (s.Have (IsPtr (Of unary.Vi (Named name_s))) ([])) s.NoBlock (s.Then 2 (s.Return ([]) ([]) ([])) s.NoBlock s.End)) ≡ (RefusedAt 1 25 3)
unfolding computing
edges_139 = refl

edges_140 : body_verdict (record { predicates = ([]); specs = ((record { is_void = true; name = name_f; params = (name_p ∷ []); vars = ((name_s, sort.Int) ∷ (name_t, sort.Int) ∷ (name_v, sort.Val) ∷ (name_w, sort.Val) ∷ (name_k, sort.List) ∷ (name_m, sort.List) ∷ []); pre = (record { opened = []; facts = ((IsPtr Undef) ∷ []); locals = []; items = ((Data (Var 0 sort.Int) (Var 2 sort.Val) (Var 4 sort.List)) ∷ (Data (Var 1 sort.Int) (Var 3 sort.Val) (Var 5 sort.List)) ∷ []) }); post = (record { opened = []; facts = ([]); locals = []; items = ((Data (Var 0 sort.Int) (Var 2 sort.Val) (Var 4 sort.List)) ∷ (Data (Var 1 sort.Int) (Var 3 sort.Val) (Var 5 sort.List)) ∷ []) }) }) ∷ []) }) (record { is_void = true; name = name_f; params = (name_p ∷ []); vars = ((name_s, sort.Int) ∷ (name_t, sort.Int) ∷ (name_v, sort.Val) ∷ (name_w, sort.Val) ∷ (name_k, sort.List) ∷ (name_m, sort.List) ∷ []); pre = (record { opened = []; facts = ((IsPtr Undef) ∷ []); locals = []; items = ((Data (Var 0 sort.Int) (Var 2 sort.Val) (Var 4 sort.List)) ∷ (Data (Var 1 sort.Int) (Var 3 sort.Val) (Var 5 sort.List)) ∷ []) }); post = (record { opened = []; facts = ([]); locals = []; items = ((Data (Var 0 sort.Int) (Var 2 sort.Val) (Var 4 sort.List)) ∷ (Data (Var 1 sort.Int) (Var 3 sort.Val) (Var 5 sort.List)) ∷ []) }) }) (record { temps = (name_p ∷ []); body = (c.Then (c.Return None) c.End) }) (s.Then 1 (s.Absurd ([])) s.NoBlock s.End) ≡ Accepted
unfolding computing
edges_140 = refl

edges_141 : body_verdict (record { predicates = ([]); specs = ((record { is_void = true; name = name_f; params = (name_p ∷ []); vars = ((name_s, sort.Int) ∷ (name_t, sort.Int) ∷ (name_v, sort.Val) ∷ (name_w, sort.Val) ∷ (name_k, sort.List) ∷ (name_m, sort.List) ∷ []); pre = (record { opened = []; facts = ((IsPtr Undef) ∷ []); locals = []; items = ((Data (Var 0 sort.Int) (Var 2 sort.Val) (Var 4 sort.List)) ∷ (Data (Var 1 sort.Int) (Var 3 sort.Val) (Var 5 sort.List)) ∷ []) }); post = (record { opened = []; facts = ([]); locals = []; items = ((Data (Var 0 sort.Int) (Var 2 sort.Val) (Var 4 sort.List)) ∷ (Data (Var 1 sort.Int) (Var 3 sort.Val) (Var 5 sort.List)) ∷ []) }) }) ∷ []) }) (record { is_void = true; name = name_f; params = (name_p ∷ []); vars = ((name_s, sort.Int) ∷ (name_t, sort.Int) ∷ (name_v, sort.Val) ∷ (name_w, sort.Val) ∷ (name_k, sort.List) ∷ (name_m, sort.List) ∷ []); pre = (record { opened = []; facts = ((IsPtr Undef) ∷ []); locals = []; items = ((Data (Var 0 sort.Int) (Var 2 sort.Val) (Var 4 sort.List)) ∷ (Data (Var 1 sort.Int) (Var 3 sort.Val) (Var 5 sort.List)) ∷ []) }); post = (record { opened = []; facts = ([]); locals = []; items = ((Data (Var 0 sort.Int) (Var 2 sort.Val) (Var 4 sort.List)) ∷ (Data (Var 1 sort.Int) (Var 3 sort.Val) (Var 5 sort.List)) ∷ []) }) }) (record { temps = (name_p ∷ []); body = (c.Then (c.Return None) c.End) }) (s.Then 1 (s.Absurd ((record { lines = ((line.Comb (((pos 1), 0) ∷ [])) ∷ []) }) ∷ [])) s.NoBlock s.End) ≡ (RefusedAt 1 24 3)
unfolding computing
edges_141 = refl

edges_142 : body_verdict (record { predicates = ([]); specs = ((record { is_void = true; name = name_f; params = (name_p ∷ []); vars = ((name_s, sort.Int) ∷ (name_t, sort.Int) ∷ (name_v, sort.Val) ∷ (name_w, sort.Val) ∷ (name_k, sort.List) ∷ (name_m, sort.List) ∷ []); pre = (record { opened = []; facts = ([]); locals = []; items = ((Data (Var 0 sort.Int) (Var 2 sort.Val) (Var 4 sort.List)) ∷ (Data (Var 1 sort.Int) (Var 3 sort.Val) (Var 5 sort.List)) ∷ []) }); post = (record { opened = []; facts = ([]); locals = []; items = ((Data (Var 0 sort.Int) (Var 2 sort.Val) (Var 4 sort.List)) ∷ (Data (Var 1 sort.Int) (Var 3 sort.Val) (Var 5 sort.List)) ∷ []) }) }) ∷ []) }) (record { is_void = true; name = name_f; params = (name_p ∷ []); vars = ((name_s, sort.Int) ∷ (name_t, sort.Int) ∷ (name_v, sort.Val) ∷ (name_w, sort.Val) ∷ (name_k, sort.List) ∷ (name_m, sort.List) ∷ []); pre = (record { opened = []; facts = ([]); locals = []; items = ((Data (Var 0 sort.Int) (Var 2 sort.Val) (Var 4 sort.List)) ∷ (Data (Var 1 sort.Int) (Var 3 sort.Val) (Var 5 sort.List)) ∷ []) }); post = (record { opened = []; facts = ([]); locals = []; items = ((Data (Var 0 sort.Int) (Var 2 sort.Val) (Var 4 sort.List)) ∷ (Data (Var 1 sort.Int) (Var 3 sort.Val) (Var 5 sort.List)) ∷ []) }) }) (record { temps = (name_p ∷ []); body = (c.Then (c.Return None) c.End) }) (s.Then 1 (s.Have (IsPtr Undef) ([])) s.NoBlock (s.Then 2 (s.Return ([]) ([]) ([])) s.NoBlock s.End)) ≡ (RefusedAt 1 25 3)
unfolding computing
edges_142 = refl

edges_143 : body_verdict (record { predicates = ([]); specs = ((record { is_void = true; name = name_f; params = (name_p ∷ []); vars = ((name_s, sort.Int) ∷ (name_t, sort.Int) ∷ (name_v, sort.Val) ∷ (name_w, sort.Val) ∷ (name_k, sort.List) ∷ (name_m, sort.List) ∷ []); pre = (record { opened = []; facts = ((IsPtr (Var 2 sort.Val)) ∷ []); locals = []; items = ((Data (Var 0 sort.Int) (Var 2 sort.Val) (Var 4 sort.List)) ∷ (Data (Var 1 sort.Int) (Var 3 sort.Val) (Var 5 sort.List)) ∷ []) }); post = (record { opened = []; facts = ([]); locals = []; items = ((Data (Var 0 sort.Int) (Var 2 sort.Val) (Var 4 sort.List)) ∷ (Data (Var 1 sort.Int) (Var 3 sort.Val) (Var 5 sort.List)) ∷ []) }) }) ∷ []) }) (record { is_void = true; name = name_f; params = (name_p ∷ []); vars = ((name_s, sort.Int) ∷ (name_t, sort.Int) ∷ (name_v, sort.Val) ∷ (name_w, sort.Val) ∷ (name_k, sort.List) ∷ (name_m, sort.List) ∷ []); pre = (record { opened = []; facts = ((IsPtr (Var 2 sort.Val)) ∷ []); locals = []; items = ((Data (Var 0 sort.Int) (Var 2 sort.Val) (Var 4 sort.List)) ∷ (Data (Var 1 sort.Int) (Var 3 sort.Val) (Var 5 sort.List)) ∷ []) }); post = (record { opened = []; facts = ([]); locals = []; items = ((Data (Var 0 sort.Int) (Var 2 sort.Val) (Var 4 sort.List)) ∷ (Data (Var 1 sort.Int) (Var 3 sort.Val) (Var 5 sort.List)) ∷ []) }) }) (record { temps = (name_p ∷ []); body = (c.Then (c.Return None) c.End) }) (s.Then 1 (s.Absurd ([])) s.NoBlock s.End) ≡ (RefusedAt 1 24 3)
unfolding computing
edges_143 = refl

edges_144 : body_verdict (record { predicates = ([]); specs = ((record { is_void = true; name = name_f; params = (name_p ∷ []); vars = ((name_s, sort.Int) ∷ (name_t, sort.Int) ∷ (name_v, sort.Val) ∷ (name_w, sort.Val) ∷ (name_k, sort.List) ∷ (name_m, sort.List) ∷ []); pre = (record { opened = []; facts = ((IsPtr (Var 2 sort.Val)) ∷ []); locals = []; items = ((Data (Var 0 sort.Int) (Var 2 sort.Val) (Var 4 sort.List)) ∷ (Data (Var 1 sort.Int) (Var 3 sort.Val) (Var 5 sort.List)) ∷ []) }); post = (record { opened = []; facts = ([]); locals = []; items = ((Data (Var 0 sort.Int) (Var 2 sort.Val) (Var 4 sort.List)) ∷ (Data (Var 1 sort.Int) (Var 3 sort.Val) (Var 5 sort.List)) ∷ []) }) }) ∷ []) }) (record { is_void = true; name = name_f; params = (name_p ∷ []); vars = ((name_s, sort.Int) ∷ (name_t, sort.Int) ∷ (name_v, sort.Val) ∷ (name_w, sort.Val) ∷ (name_k, sort.List) ∷ (name_m, sort.List) ∷ []); pre = (record { opened = []; facts = ((IsPtr (Var 2 sort.Val)) ∷ []); locals = []; items = ((Data (Var 0 sort.Int) (Var 2 sort.Val) (Var 4 sort.List)) ∷ (Data (Var 1 sort.Int) (Var 3 sort.Val) (Var 5 sort.List)) ∷ []) }); post = (record { opened = []; facts = ([]); locals = []; items = ((Data (Var 0 sort.Int) (Var 2 sort.Val) (Var 4 sort.List)) ∷ (Data (Var 1 sort.Int) (Var 3 sort.Val) (Var 5 sort.List)) ∷ []) }) }) (record { temps = (name_p ∷ []); body = (c.Then (c.Return None) c.End) }) (s.Then 1 (s.Absurd ((record { lines = ((line.Comb (((pos 1), 0) ∷ [])) ∷ []) }) ∷ [])) s.NoBlock s.End) ≡ (RefusedAt 1 24 3)
unfolding computing
edges_144 = refl

edges_145 : body_verdict (record { predicates = ([]); specs = ((record { is_void = true; name = name_f; params = (name_p ∷ []); vars = ((name_s, sort.Int) ∷ (name_t, sort.Int) ∷ (name_v, sort.Val) ∷ (name_w, sort.Val) ∷ (name_k, sort.List) ∷ (name_m, sort.List) ∷ []); pre = (record { opened = []; facts = ([]); locals = []; items = ((Data (Var 0 sort.Int) (Var 2 sort.Val) (Var 4 sort.List)) ∷ (Data (Var 1 sort.Int) (Var 3 sort.Val) (Var 5 sort.List)) ∷ []) }); post = (record { opened = []; facts = ([]); locals = []; items = ((Data (Var 0 sort.Int) (Var 2 sort.Val) (Var 4 sort.List)) ∷ (Data (Var 1 sort.Int) (Var 3 sort.Val) (Var 5 sort.List)) ∷ []) }) }) ∷ []) }) (record { is_void = true; name = name_f; params = (name_p ∷ []); vars = ((name_s, sort.Int) ∷ (name_t, sort.Int) ∷ (name_v, sort.Val) ∷ (name_w, sort.Val) ∷ (name_k, sort.List) ∷ (name_m, sort.List) ∷ []); pre = (record { opened = []; facts = ([]); locals = []; items = ((Data (Var 0 sort.Int) (Var 2 sort.Val) (Var 4 sort.List)) ∷ (Data (Var 1 sort.Int) (Var 3 sort.Val) (Var 5 sort.List)) ∷ []) }); post = (record { opened = []; facts = ([]); locals = []; items = ((Data (Var 0 sort.Int) (Var 2 sort.Val) (Var 4 sort.List)) ∷ (Data (Var 1 sort.Int) (Var 3 sort.Val) (Var 5 sort.List)) ∷ []) }) }) (record { temps = (name_p ∷ []); body = (c.Then (c.Return None) c.End) }) (s.Then 1 (s.Have (IsPtr (Named name_v)) ([])) s.NoBlock (s.Then 2 (s.Return ([]) ([]) ([])) s.NoBlock s.End)) ≡ (RefusedAt 1 25 3)
unfolding computing
edges_145 = refl

edges_146 : body_verdict (record { predicates = ([]); specs = ((record { is_void = true; name = name_f; params = (name_p ∷ []); vars = ((name_s, sort.Int) ∷ (name_t, sort.Int) ∷ (name_v, sort.Val) ∷ (name_w, sort.Val) ∷ (name_k, sort.List) ∷ (name_m, sort.List) ∷ []); pre = (record { opened = []; facts = ((Rel relation.Eq (Number (pos 1)) (Number (pos 2))) ∷ []); locals = []; items = ((Data (Var 0 sort.Int) (Var 2 sort.Val) (Var 4 sort.List)) ∷ (Data (Var 1 sort.Int) (Var 3 sort.Val) (Var 5 sort.List)) ∷ []) }); post = (record { opened = []; facts = ([]); locals = []; items = ((Data (Var 0 sort.Int) (Var 2 sort.Val) (Var 4 sort.List)) ∷ (Data (Var 1 sort.Int) (Var 3 sort.Val) (Var 5 sort.List)) ∷ []) }) }) ∷ []) }) (record { is_void = true; name = name_f; params = (name_p ∷ []); vars = ((name_s, sort.Int) ∷ (name_t, sort.Int) ∷ (name_v, sort.Val) ∷ (name_w, sort.Val) ∷ (name_k, sort.List) ∷ (name_m, sort.List) ∷ []); pre = (record { opened = []; facts = ((Rel relation.Eq (Number (pos 1)) (Number (pos 2))) ∷ []); locals = []; items = ((Data (Var 0 sort.Int) (Var 2 sort.Val) (Var 4 sort.List)) ∷ (Data (Var 1 sort.Int) (Var 3 sort.Val) (Var 5 sort.List)) ∷ []) }); post = (record { opened = []; facts = ([]); locals = []; items = ((Data (Var 0 sort.Int) (Var 2 sort.Val) (Var 4 sort.List)) ∷ (Data (Var 1 sort.Int) (Var 3 sort.Val) (Var 5 sort.List)) ∷ []) }) }) (record { temps = (name_p ∷ []); body = (c.Then (c.Return None) c.End) }) (s.Then 1 (s.Absurd ([])) s.NoBlock s.End) ≡ Accepted
unfolding computing
edges_146 = refl

edges_147 : body_verdict (record { predicates = ([]); specs = ((record { is_void = true; name = name_f; params = (name_p ∷ []); vars = ((name_s, sort.Int) ∷ (name_t, sort.Int) ∷ (name_v, sort.Val) ∷ (name_w, sort.Val) ∷ (name_k, sort.List) ∷ (name_m, sort.List) ∷ []); pre = (record { opened = []; facts = ((Rel relation.Eq (Number (pos 1)) (Number (pos 2))) ∷ []); locals = []; items = ((Data (Var 0 sort.Int) (Var 2 sort.Val) (Var 4 sort.List)) ∷ (Data (Var 1 sort.Int) (Var 3 sort.Val) (Var 5 sort.List)) ∷ []) }); post = (record { opened = []; facts = ([]); locals = []; items = ((Data (Var 0 sort.Int) (Var 2 sort.Val) (Var 4 sort.List)) ∷ (Data (Var 1 sort.Int) (Var 3 sort.Val) (Var 5 sort.List)) ∷ []) }) }) ∷ []) }) (record { is_void = true; name = name_f; params = (name_p ∷ []); vars = ((name_s, sort.Int) ∷ (name_t, sort.Int) ∷ (name_v, sort.Val) ∷ (name_w, sort.Val) ∷ (name_k, sort.List) ∷ (name_m, sort.List) ∷ []); pre = (record { opened = []; facts = ((Rel relation.Eq (Number (pos 1)) (Number (pos 2))) ∷ []); locals = []; items = ((Data (Var 0 sort.Int) (Var 2 sort.Val) (Var 4 sort.List)) ∷ (Data (Var 1 sort.Int) (Var 3 sort.Val) (Var 5 sort.List)) ∷ []) }); post = (record { opened = []; facts = ([]); locals = []; items = ((Data (Var 0 sort.Int) (Var 2 sort.Val) (Var 4 sort.List)) ∷ (Data (Var 1 sort.Int) (Var 3 sort.Val) (Var 5 sort.List)) ∷ []) }) }) (record { temps = (name_p ∷ []); body = (c.Then (c.Return None) c.End) }) (s.Then 1 (s.Absurd ((record { lines = ((line.Comb (((pos 1), 0) ∷ [])) ∷ []) }) ∷ [])) s.NoBlock s.End) ≡ (RefusedAt 1 24 3)
unfolding computing
edges_147 = refl

edges_148 : body_verdict (record { predicates = ([]); specs = ((record { is_void = true; name = name_f; params = (name_p ∷ []); vars = ((name_s, sort.Int) ∷ (name_t, sort.Int) ∷ (name_v, sort.Val) ∷ (name_w, sort.Val) ∷ (name_k, sort.List) ∷ (name_m, sort.List) ∷ []); pre = (record { opened = []; facts = ([]); locals = []; items = ((Data (Var 0 sort.Int) (Var 2 sort.Val) (Var 4 sort.List)) ∷ (Data (Var 1 sort.Int) (Var 3 sort.Val) (Var 5 sort.List)) ∷ []) }); post = (record { opened = []; facts = ([]); locals = []; items = ((Data (Var 0 sort.Int) (Var 2 sort.Val) (Var 4 sort.List)) ∷ (Data (Var 1 sort.Int) (Var 3 sort.Val) (Var 5 sort.List)) ∷ []) }) }) ∷ []) }) (record { is_void = true; name = name_f; params = (name_p ∷ []); vars = ((name_s, sort.Int) ∷ (name_t, sort.Int) ∷ (name_v, sort.Val) ∷ (name_w, sort.Val) ∷ (name_k, sort.List) ∷ (name_m, sort.List) ∷ []); pre = (record { opened = []; facts = ([]); locals = []; items = ((Data (Var 0 sort.Int) (Var 2 sort.Val) (Var 4 sort.List)) ∷ (Data (Var 1 sort.Int) (Var 3 sort.Val) (Var 5 sort.List)) ∷ []) }); post = (record { opened = []; facts = ([]); locals = []; items = ((Data (Var 0 sort.Int) (Var 2 sort.Val) (Var 4 sort.List)) ∷ (Data (Var 1 sort.Int) (Var 3 sort.Val) (Var 5 sort.List)) ∷ []) }) }) (record { temps = (name_p ∷ []); body = (c.Then (c.Return None) c.End) }) (s.Then 1 (s.Have (Rel relation.Eq (Number (pos 1)) (Number (pos 2))) ([])) s.NoBlock (s.Then 2 (s.Return ([]) ([]) ([])) s.NoBlock s.End)) ≡ (RefusedAt 1 25 3)
unfolding computing
edges_148 = refl

edges_149 : body_verdict (record { predicates = ([]); specs = ((record { is_void = true; name = name_f; params = (name_p ∷ []); vars = ((name_s, sort.Int) ∷ (name_t, sort.Int) ∷ (name_v, sort.Val) ∷ (name_w, sort.Val) ∷ (name_k, sort.List) ∷ (name_m, sort.List) ∷ []); pre = (record { opened = []; facts = ((Rel relation.Eq (Number (pos 1)) (Number (pos 1))) ∷ []); locals = []; items = ((Data (Var 0 sort.Int) (Var 2 sort.Val) (Var 4 sort.List)) ∷ (Data (Var 1 sort.Int) (Var 3 sort.Val) (Var 5 sort.List)) ∷ []) }); post = (record { opened = []; facts = ([]); locals = []; items = ((Data (Var 0 sort.Int) (Var 2 sort.Val) (Var 4 sort.List)) ∷ (Data (Var 1 sort.Int) (Var 3 sort.Val) (Var 5 sort.List)) ∷ []) }) }) ∷ []) }) (record { is_void = true; name = name_f; params = (name_p ∷ []); vars = ((name_s, sort.Int) ∷ (name_t, sort.Int) ∷ (name_v, sort.Val) ∷ (name_w, sort.Val) ∷ (name_k, sort.List) ∷ (name_m, sort.List) ∷ []); pre = (record { opened = []; facts = ((Rel relation.Eq (Number (pos 1)) (Number (pos 1))) ∷ []); locals = []; items = ((Data (Var 0 sort.Int) (Var 2 sort.Val) (Var 4 sort.List)) ∷ (Data (Var 1 sort.Int) (Var 3 sort.Val) (Var 5 sort.List)) ∷ []) }); post = (record { opened = []; facts = ([]); locals = []; items = ((Data (Var 0 sort.Int) (Var 2 sort.Val) (Var 4 sort.List)) ∷ (Data (Var 1 sort.Int) (Var 3 sort.Val) (Var 5 sort.List)) ∷ []) }) }) (record { temps = (name_p ∷ []); body = (c.Then (c.Return None) c.End) }) (s.Then 1 (s.Absurd ([])) s.NoBlock s.End) ≡ (RefusedAt 1 24 3)
unfolding computing
edges_149 = refl

edges_150 : body_verdict (record { predicates = ([]); specs = ((record { is_void = true; name = name_f; params = (name_p ∷ []); vars = ((name_s, sort.Int) ∷ (name_t, sort.Int) ∷ (name_v, sort.Val) ∷ (name_w, sort.Val) ∷ (name_k, sort.List) ∷ (name_m, sort.List) ∷ []); pre = (record { opened = []; facts = ((Rel relation.Eq (Number (pos 1)) (Number (pos 1))) ∷ []); locals = []; items = ((Data (Var 0 sort.Int) (Var 2 sort.Val) (Var 4 sort.List)) ∷ (Data (Var 1 sort.Int) (Var 3 sort.Val) (Var 5 sort.List)) ∷ []) }); post = (record { opened = []; facts = ([]); locals = []; items = ((Data (Var 0 sort.Int) (Var 2 sort.Val) (Var 4 sort.List)) ∷ (Data (Var 1 sort.Int) (Var 3 sort.Val) (Var 5 sort.List)) ∷ []) }) }) ∷ []) }) (record { is_void = true; name = name_f; params = (name_p ∷ []); vars = ((name_s, sort.Int) ∷ (name_t, sort.Int) ∷ (name_v, sort.Val) ∷ (name_w, sort.Val) ∷ (name_k, sort.List) ∷ (name_m, sort.List) ∷ []); pre = (record { opened = []; facts = ((Rel relation.Eq (Number (pos 1)) (Number (pos 1))) ∷ []); locals = []; items = ((Data (Var 0 sort.Int) (Var 2 sort.Val) (Var 4 sort.List)) ∷ (Data (Var 1 sort.Int) (Var 3 sort.Val) (Var 5 sort.List)) ∷ []) }); post = (record { opened = []; facts = ([]); locals = []; items = ((Data (Var 0 sort.Int) (Var 2 sort.Val) (Var 4 sort.List)) ∷ (Data (Var 1 sort.Int) (Var 3 sort.Val) (Var 5 sort.List)) ∷ []) }) }) (record { temps = (name_p ∷ []); body = (c.Then (c.Return None) c.End) }) (s.Then 1 (s.Absurd ((record { lines = ((line.Comb (((pos 1), 0) ∷ [])) ∷ []) }) ∷ [])) s.NoBlock s.End) ≡ (RefusedAt 1 24 3)
unfolding computing
edges_150 = refl

edges_151 : body_verdict (record { predicates = ([]); specs = ((record { is_void = true; name = name_f; params = (name_p ∷ []); vars = ((name_s, sort.Int) ∷ (name_t, sort.Int) ∷ (name_v, sort.Val) ∷ (name_w, sort.Val) ∷ (name_k, sort.List) ∷ (name_m, sort.List) ∷ []); pre = (record { opened = []; facts = ([]); locals = []; items = ((Data (Var 0 sort.Int) (Var 2 sort.Val) (Var 4 sort.List)) ∷ (Data (Var 1 sort.Int) (Var 3 sort.Val) (Var 5 sort.List)) ∷ []) }); post = (record { opened = []; facts = ([]); locals = []; items = ((Data (Var 0 sort.Int) (Var 2 sort.Val) (Var 4 sort.List)) ∷ (Data (Var 1 sort.Int) (Var 3 sort.Val) (Var 5 sort.List)) ∷ []) }) }) ∷ []) }) (record { is_void = true; name = name_f; params = (name_p ∷ []); vars = ((name_s, sort.Int) ∷ (name_t, sort.Int) ∷ (name_v, sort.Val) ∷ (name_w, sort.Val) ∷ (name_k, sort.List) ∷ (name_m, sort.List) ∷ []); pre = (record { opened = []; facts = ([]); locals = []; items = ((Data (Var 0 sort.Int) (Var 2 sort.Val) (Var 4 sort.List)) ∷ (Data (Var 1 sort.Int) (Var 3 sort.Val) (Var 5 sort.List)) ∷ []) }); post = (record { opened = []; facts = ([]); locals = []; items = ((Data (Var 0 sort.Int) (Var 2 sort.Val) (Var 4 sort.List)) ∷ (Data (Var 1 sort.Int) (Var 3 sort.Val) (Var 5 sort.List)) ∷ []) }) }) (record { temps = (name_p ∷ []); body = (c.Then (c.Return None) c.End) }) (s.Then 1 (s.Have (Rel relation.Eq (Number (pos 1)) (Number (pos 1))) ([])) s.NoBlock (s.Then 2 (s.Return ([]) ([]) ([])) s.NoBlock s.End)) ≡ Accepted
unfolding computing
edges_151 = refl

edges_152 : body_verdict (record { predicates = ([]); specs = ((record { is_void = true; name = name_f; params = (name_p ∷ []); vars = ((name_s, sort.Int) ∷ (name_t, sort.Int) ∷ (name_v, sort.Val) ∷ (name_w, sort.Val) ∷ (name_k, sort.List) ∷ (name_m, sort.List) ∷ []); pre = (record { opened = []; facts = ((Rel relation.Le (Var 0 sort.Int) (Var 0 sort.Int)) ∷ []); locals = []; items = ((Data (Var 0 sort.Int) (Var 2 sort.Val) (Var 4 sort.List)) ∷ (Data (Var 1 sort.Int) (Var 3 sort.Val) (Var 5 sort.List)) ∷ []) }); post = (record { opened = []; facts = ([]); locals = []; items = ((Data (Var 0 sort.Int) (Var 2 sort.Val) (Var 4 sort.List)) ∷ (Data (Var 1 sort.Int) (Var 3 sort.Val) (Var 5 sort.List)) ∷ []) }) }) ∷ []) }) (record { is_void = true; name = name_f; params = (name_p ∷ []); vars = ((name_s, sort.Int) ∷ (name_t, sort.Int) ∷ (name_v, sort.Val) ∷ (name_w, sort.Val) ∷ (name_k, sort.List) ∷ (name_m, sort.List) ∷ []); pre = (record { opened = []; facts = ((Rel relation.Le (Var 0 sort.Int) (Var 0 sort.Int)) ∷ []); locals = []; items = ((Data (Var 0 sort.Int) (Var 2 sort.Val) (Var 4 sort.List)) ∷ (Data (Var 1 sort.Int) (Var 3 sort.Val) (Var 5 sort.List)) ∷ []) }); post = (record { opened = []; facts = ([]); locals = []; items = ((Data (Var 0 sort.Int) (Var 2 sort.Val) (Var 4 sort.List)) ∷ (Data (Var 1 sort.Int) (Var 3 sort.Val) (Var 5 sort.List)) ∷ []) }) }) (record { temps = (name_p ∷ []); body = (c.Then (c.Return None) c.End) }) (s.Then 1 (s.Absurd ([])) s.NoBlock s.End) ≡ (RefusedAt 1 24 3)
unfolding computing
edges_152 = refl

edges_153 : body_verdict (record { predicates = ([]); specs = ((record { is_void = true; name = name_f; params = (name_p ∷ []); vars = ((name_s, sort.Int) ∷ (name_t, sort.Int) ∷ (name_v, sort.Val) ∷ (name_w, sort.Val) ∷ (name_k, sort.List) ∷ (name_m, sort.List) ∷ []); pre = (record { opened = []; facts = ((Rel relation.Le (Var 0 sort.Int) (Var 0 sort.Int)) ∷ []); locals = []; items = ((Data (Var 0 sort.Int) (Var 2 sort.Val) (Var 4 sort.List)) ∷ (Data (Var 1 sort.Int) (Var 3 sort.Val) (Var 5 sort.List)) ∷ []) }); post = (record { opened = []; facts = ([]); locals = []; items = ((Data (Var 0 sort.Int) (Var 2 sort.Val) (Var 4 sort.List)) ∷ (Data (Var 1 sort.Int) (Var 3 sort.Val) (Var 5 sort.List)) ∷ []) }) }) ∷ []) }) (record { is_void = true; name = name_f; params = (name_p ∷ []); vars = ((name_s, sort.Int) ∷ (name_t, sort.Int) ∷ (name_v, sort.Val) ∷ (name_w, sort.Val) ∷ (name_k, sort.List) ∷ (name_m, sort.List) ∷ []); pre = (record { opened = []; facts = ((Rel relation.Le (Var 0 sort.Int) (Var 0 sort.Int)) ∷ []); locals = []; items = ((Data (Var 0 sort.Int) (Var 2 sort.Val) (Var 4 sort.List)) ∷ (Data (Var 1 sort.Int) (Var 3 sort.Val) (Var 5 sort.List)) ∷ []) }); post = (record { opened = []; facts = ([]); locals = []; items = ((Data (Var 0 sort.Int) (Var 2 sort.Val) (Var 4 sort.List)) ∷ (Data (Var 1 sort.Int) (Var 3 sort.Val) (Var 5 sort.List)) ∷ []) }) }) (record { temps = (name_p ∷ []); body = (c.Then (c.Return None) c.End) }) (s.Then 1 (s.Absurd ((record { lines = ((line.Comb (((pos 1), 0) ∷ [])) ∷ []) }) ∷ [])) s.NoBlock s.End) ≡ (RefusedAt 1 24 3)
unfolding computing
edges_153 = refl

edges_154 : body_verdict (record { predicates = ([]); specs = ((record { is_void = true; name = name_f; params = (name_p ∷ []); vars = ((name_s, sort.Int) ∷ (name_t, sort.Int) ∷ (name_v, sort.Val) ∷ (name_w, sort.Val) ∷ (name_k, sort.List) ∷ (name_m, sort.List) ∷ []); pre = (record { opened = []; facts = ([]); locals = []; items = ((Data (Var 0 sort.Int) (Var 2 sort.Val) (Var 4 sort.List)) ∷ (Data (Var 1 sort.Int) (Var 3 sort.Val) (Var 5 sort.List)) ∷ []) }); post = (record { opened = []; facts = ([]); locals = []; items = ((Data (Var 0 sort.Int) (Var 2 sort.Val) (Var 4 sort.List)) ∷ (Data (Var 1 sort.Int) (Var 3 sort.Val) (Var 5 sort.List)) ∷ []) }) }) ∷ []) }) (record { is_void = true; name = name_f; params = (name_p ∷ []); vars = ((name_s, sort.Int) ∷ (name_t, sort.Int) ∷ (name_v, sort.Val) ∷ (name_w, sort.Val) ∷ (name_k, sort.List) ∷ (name_m, sort.List) ∷ []); pre = (record { opened = []; facts = ([]); locals = []; items = ((Data (Var 0 sort.Int) (Var 2 sort.Val) (Var 4 sort.List)) ∷ (Data (Var 1 sort.Int) (Var 3 sort.Val) (Var 5 sort.List)) ∷ []) }); post = (record { opened = []; facts = ([]); locals = []; items = ((Data (Var 0 sort.Int) (Var 2 sort.Val) (Var 4 sort.List)) ∷ (Data (Var 1 sort.Int) (Var 3 sort.Val) (Var 5 sort.List)) ∷ []) }) }) (record { temps = (name_p ∷ []); body = (c.Then (c.Return None) c.End) }) (s.Then 1 (s.Have (Rel relation.Le (Named name_s) (Named name_s)) ([])) s.NoBlock (s.Then 2 (s.Return ([]) ([]) ([])) s.NoBlock s.End)) ≡ (RefusedAt 1 25 3)
unfolding computing
edges_154 = refl

edges_155 : body_verdict (record { predicates = ([]); specs = ((record { is_void = true; name = name_f; params = (name_p ∷ []); vars = ((name_s, sort.Int) ∷ (name_t, sort.Int) ∷ (name_v, sort.Val) ∷ (name_w, sort.Val) ∷ (name_k, sort.List) ∷ (name_m, sort.List) ∷ []); pre = (record { opened = []; facts = ((Rel relation.Ne (Var 2 sort.Val) (Var 3 sort.Val)) ∷ []); locals = []; items = ((Data (Var 0 sort.Int) (Var 2 sort.Val) (Var 4 sort.List)) ∷ (Data (Var 1 sort.Int) (Var 3 sort.Val) (Var 5 sort.List)) ∷ []) }); post = (record { opened = []; facts = ([]); locals = []; items = ((Data (Var 0 sort.Int) (Var 2 sort.Val) (Var 4 sort.List)) ∷ (Data (Var 1 sort.Int) (Var 3 sort.Val) (Var 5 sort.List)) ∷ []) }) }) ∷ []) }) (record { is_void = true; name = name_f; params = (name_p ∷ []); vars = ((name_s, sort.Int) ∷ (name_t, sort.Int) ∷ (name_v, sort.Val) ∷ (name_w, sort.Val) ∷ (name_k, sort.List) ∷ (name_m, sort.List) ∷ []); pre = (record { opened = []; facts = ((Rel relation.Ne (Var 2 sort.Val) (Var 3 sort.Val)) ∷ []); locals = []; items = ((Data (Var 0 sort.Int) (Var 2 sort.Val) (Var 4 sort.List)) ∷ (Data (Var 1 sort.Int) (Var 3 sort.Val) (Var 5 sort.List)) ∷ []) }); post = (record { opened = []; facts = ([]); locals = []; items = ((Data (Var 0 sort.Int) (Var 2 sort.Val) (Var 4 sort.List)) ∷ (Data (Var 1 sort.Int) (Var 3 sort.Val) (Var 5 sort.List)) ∷ []) }) }) (record { temps = (name_p ∷ []); body = (c.Then (c.Return None) c.End) }) (s.Then 1 (s.Absurd ([])) s.NoBlock s.End) ≡ (RefusedAt 1 24 3)
unfolding computing
edges_155 = refl

edges_156 : body_verdict (record { predicates = ([]); specs = ((record { is_void = true; name = name_f; params = (name_p ∷ []); vars = ((name_s, sort.Int) ∷ (name_t, sort.Int) ∷ (name_v, sort.Val) ∷ (name_w, sort.Val) ∷ (name_k, sort.List) ∷ (name_m, sort.List) ∷ []); pre = (record { opened = []; facts = ((Rel relation.Ne (Var 2 sort.Val) (Var 3 sort.Val)) ∷ []); locals = []; items = ((Data (Var 0 sort.Int) (Var 2 sort.Val) (Var 4 sort.List)) ∷ (Data (Var 1 sort.Int) (Var 3 sort.Val) (Var 5 sort.List)) ∷ []) }); post = (record { opened = []; facts = ([]); locals = []; items = ((Data (Var 0 sort.Int) (Var 2 sort.Val) (Var 4 sort.List)) ∷ (Data (Var 1 sort.Int) (Var 3 sort.Val) (Var 5 sort.List)) ∷ []) }) }) ∷ []) }) (record { is_void = true; name = name_f; params = (name_p ∷ []); vars = ((name_s, sort.Int) ∷ (name_t, sort.Int) ∷ (name_v, sort.Val) ∷ (name_w, sort.Val) ∷ (name_k, sort.List) ∷ (name_m, sort.List) ∷ []); pre = (record { opened = []; facts = ((Rel relation.Ne (Var 2 sort.Val) (Var 3 sort.Val)) ∷ []); locals = []; items = ((Data (Var 0 sort.Int) (Var 2 sort.Val) (Var 4 sort.List)) ∷ (Data (Var 1 sort.Int) (Var 3 sort.Val) (Var 5 sort.List)) ∷ []) }); post = (record { opened = []; facts = ([]); locals = []; items = ((Data (Var 0 sort.Int) (Var 2 sort.Val) (Var 4 sort.List)) ∷ (Data (Var 1 sort.Int) (Var 3 sort.Val) (Var 5 sort.List)) ∷ []) }) }) (record { temps = (name_p ∷ []); body = (c.Then (c.Return None) c.End) }) (s.Then 1 (s.Absurd ((record { lines = ((line.Comb (((pos 1), 0) ∷ [])) ∷ []) }) ∷ [])) s.NoBlock s.End) ≡ (RefusedAt 1 24 3)
unfolding computing
edges_156 = refl

edges_157 : body_verdict (record { predicates = ([]); specs = ((record { is_void = true; name = name_f; params = (name_p ∷ []); vars = ((name_s, sort.Int) ∷ (name_t, sort.Int) ∷ (name_v, sort.Val) ∷ (name_w, sort.Val) ∷ (name_k, sort.List) ∷ (name_m, sort.List) ∷ []); pre = (record { opened = []; facts = ([]); locals = []; items = ((Data (Var 0 sort.Int) (Var 2 sort.Val) (Var 4 sort.List)) ∷ (Data (Var 1 sort.Int) (Var 3 sort.Val) (Var 5 sort.List)) ∷ []) }); post = (record { opened = []; facts = ([]); locals = []; items = ((Data (Var 0 sort.Int) (Var 2 sort.Val) (Var 4 sort.List)) ∷ (Data (Var 1 sort.Int) (Var 3 sort.Val) (Var 5 sort.List)) ∷ []) }) }) ∷ []) }) (record { is_void = true; name = name_f; params = (name_p ∷ []); vars = ((name_s, sort.Int) ∷ (name_t, sort.Int) ∷ (name_v, sort.Val) ∷ (name_w, sort.Val) ∷ (name_k, sort.List) ∷ (name_m, sort.List) ∷ []); pre = (record { opened = []; facts = ([]); locals = []; items = ((Data (Var 0 sort.Int) (Var 2 sort.Val) (Var 4 sort.List)) ∷ (Data (Var 1 sort.Int) (Var 3 sort.Val) (Var 5 sort.List)) ∷ []) }); post = (record { opened = []; facts = ([]); locals = []; items = ((Data (Var 0 sort.Int) (Var 2 sort.Val) (Var 4 sort.List)) ∷ (Data (Var 1 sort.Int) (Var 3 sort.Val) (Var 5 sort.List)) ∷ []) }) }) (record { temps = (name_p ∷ []); body = (c.Then (c.Return None) c.End) }) (s.Then 1 (s.Have (Rel relation.Ne (Named name_v) (Named name_w)) ([])) s.NoBlock (s.Then 2 (s.Return ([]) ([]) ([])) s.NoBlock s.End)) ≡ (RefusedAt 1 25 3)
unfolding computing
edges_157 = refl

edges_158 : body_verdict (record { predicates = ([]); specs = ((record { is_void = true; name = name_f; params = (name_p ∷ []); vars = ((name_s, sort.Int) ∷ (name_t, sort.Int) ∷ (name_v, sort.Val) ∷ (name_w, sort.Val) ∷ (name_k, sort.List) ∷ (name_m, sort.List) ∷ []); pre = (record { opened = []; facts = ((Rel relation.Eq (Var 4 sort.List) (Of2 binary.Cons (Var 2 sort.Val) (Var 4 sort.List))) ∷ []); locals = []; items = ((Data (Var 0 sort.Int) (Var 2 sort.Val) (Var 4 sort.List)) ∷ (Data (Var 1 sort.Int) (Var 3 sort.Val) (Var 5 sort.List)) ∷ []) }); post = (record { opened = []; facts = ([]); locals = []; items = ((Data (Var 0 sort.Int) (Var 2 sort.Val) (Var 4 sort.List)) ∷ (Data (Var 1 sort.Int) (Var 3 sort.Val) (Var 5 sort.List)) ∷ []) }) }) ∷ []) }) (record { is_void = true; name = name_f; params = (name_p ∷ []); vars = ((name_s, sort.Int) ∷ (name_t, sort.Int) ∷ (name_v, sort.Val) ∷ (name_w, sort.Val) ∷ (name_k, sort.List) ∷ (name_m, sort.List) ∷ []); pre = (record { opened = []; facts = ((Rel relation.Eq (Var 4 sort.List) (Of2 binary.Cons (Var 2 sort.Val) (Var 4 sort.List))) ∷ []); locals = []; items = ((Data (Var 0 sort.Int) (Var 2 sort.Val) (Var 4 sort.List)) ∷ (Data (Var 1 sort.Int) (Var 3 sort.Val) (Var 5 sort.List)) ∷ []) }); post = (record { opened = []; facts = ([]); locals = []; items = ((Data (Var 0 sort.Int) (Var 2 sort.Val) (Var 4 sort.List)) ∷ (Data (Var 1 sort.Int) (Var 3 sort.Val) (Var 5 sort.List)) ∷ []) }) }) (record { temps = (name_p ∷ []); body = (c.Then (c.Return None) c.End) }) (s.Then 1 (s.Absurd ([])) s.NoBlock s.End) ≡ (RefusedAt 1 24 3)
unfolding computing
edges_158 = refl

edges_159 : body_verdict (record { predicates = ([]); specs = ((record { is_void = true; name = name_f; params = (name_p ∷ []); vars = ((name_s, sort.Int) ∷ (name_t, sort.Int) ∷ (name_v, sort.Val) ∷ (name_w, sort.Val) ∷ (name_k, sort.List) ∷ (name_m, sort.List) ∷ []); pre = (record { opened = []; facts = ((Rel relation.Eq (Var 4 sort.List) (Of2 binary.Cons (Var 2 sort.Val) (Var 4 sort.List))) ∷ []); locals = []; items = ((Data (Var 0 sort.Int) (Var 2 sort.Val) (Var 4 sort.List)) ∷ (Data (Var 1 sort.Int) (Var 3 sort.Val) (Var 5 sort.List)) ∷ []) }); post = (record { opened = []; facts = ([]); locals = []; items = ((Data (Var 0 sort.Int) (Var 2 sort.Val) (Var 4 sort.List)) ∷ (Data (Var 1 sort.Int) (Var 3 sort.Val) (Var 5 sort.List)) ∷ []) }) }) ∷ []) }) (record { is_void = true; name = name_f; params = (name_p ∷ []); vars = ((name_s, sort.Int) ∷ (name_t, sort.Int) ∷ (name_v, sort.Val) ∷ (name_w, sort.Val) ∷ (name_k, sort.List) ∷ (name_m, sort.List) ∷ []); pre = (record { opened = []; facts = ((Rel relation.Eq (Var 4 sort.List) (Of2 binary.Cons (Var 2 sort.Val) (Var 4 sort.List))) ∷ []); locals = []; items = ((Data (Var 0 sort.Int) (Var 2 sort.Val) (Var 4 sort.List)) ∷ (Data (Var 1 sort.Int) (Var 3 sort.Val) (Var 5 sort.List)) ∷ []) }); post = (record { opened = []; facts = ([]); locals = []; items = ((Data (Var 0 sort.Int) (Var 2 sort.Val) (Var 4 sort.List)) ∷ (Data (Var 1 sort.Int) (Var 3 sort.Val) (Var 5 sort.List)) ∷ []) }) }) (record { temps = (name_p ∷ []); body = (c.Then (c.Return None) c.End) }) (s.Then 1 (s.Absurd ((record { lines = ((line.Comb (((pos 1), 0) ∷ [])) ∷ []) }) ∷ [])) s.NoBlock s.End) ≡ (RefusedAt 1 24 3)
unfolding computing
edges_159 = refl

edges_160 : body_verdict (record { predicates = ([]); specs = ((record { is_void = true; name = name_f; params = (name_p ∷ []); vars = ((name_s, sort.Int) ∷ (name_t, sort.Int) ∷ (name_v, sort.Val) ∷ (name_w, sort.Val) ∷ (name_k, sort.List) ∷ (name_m, sort.List) ∷ []); pre = (record { opened = []; facts = ([]); locals = []; items = ((Data (Var 0 sort.Int) (Var 2 sort.Val) (Var 4 sort.List)) ∷ (Data (Var 1 sort.Int) (Var 3 sort.Val) (Var 5 sort.List)) ∷ []) }); post = (record { opened = []; facts = ([]); locals = []; items = ((Data (Var 0 sort.Int) (Var 2 sort.Val) (Var 4 sort.List)) ∷ (Data (Var 1 sort.Int) (Var 3 sort.Val) (Var 5 sort.List)) ∷ []) }) }) ∷ []) }) (record { is_void = true; name = name_f; params = (name_p ∷ []); vars = ((name_s, sort.Int) ∷ (name_t, sort.Int) ∷ (name_v, sort.Val) ∷ (name_w, sort.Val) ∷ (name_k, sort.List) ∷ (name_m, sort.List) ∷ []); pre = (record { opened = []; facts = ([]); locals = []; items = ((Data (Var 0 sort.Int) (Var 2 sort.Val) (Var 4 sort.List)) ∷ (Data (Var 1 sort.Int) (Var 3 sort.Val) (Var 5 sort.List)) ∷ []) }); post = (record { opened = []; facts = ([]); locals = []; items = ((Data (Var 0 sort.Int) (Var 2 sort.Val) (Var 4 sort.List)) ∷ (Data (Var 1 sort.Int) (Var 3 sort.Val) (Var 5 sort.List)) ∷ []) }) }) (record { temps = (name_p ∷ []); body = (c.Then (c.Return None) c.End) }) (s.Then 1 (s.Have (Rel relation.Eq (Named name_k) (Of2 binary.Cons (Named name_v) (Named name_k))) ([])) s.NoBlock (s.Then 2 (s.Return ([]) ([]) ([])) s.NoBlock s.End)) ≡ (RefusedAt 1 25 3)
unfolding computing
edges_160 = refl

edges_161 : body_verdict (record { predicates = ([]); specs = ((record { is_void = true; name = name_f; params = (name_p ∷ []); vars = ((name_s, sort.Int) ∷ (name_t, sort.Int) ∷ (name_v, sort.Val) ∷ (name_w, sort.Val) ∷ (name_k, sort.List) ∷ (name_m, sort.List) ∷ []); pre = (record { opened = []; facts = ((Rel relation.Le (Var 0 sort.Int) (Var 1 sort.Int)) ∷ (Rel relation.Le (Var 1 sort.Int) (Of2 binary.Sub (Var 0 sort.Int) (Number (pos 1)))) ∷ []); locals = []; items = ((Data (Var 0 sort.Int) (Var 2 sort.Val) (Var 4 sort.List)) ∷ (Data (Var 1 sort.Int) (Var 3 sort.Val) (Var 5 sort.List)) ∷ []) }); post = (record { opened = []; facts = ([]); locals = []; items = ((Data (Var 0 sort.Int) (Var 2 sort.Val) (Var 4 sort.List)) ∷ (Data (Var 1 sort.Int) (Var 3 sort.Val) (Var 5 sort.List)) ∷ []) }) }) ∷ []) }) (record { is_void = true; name = name_f; params = (name_p ∷ []); vars = ((name_s, sort.Int) ∷ (name_t, sort.Int) ∷ (name_v, sort.Val) ∷ (name_w, sort.Val) ∷ (name_k, sort.List) ∷ (name_m, sort.List) ∷ []); pre = (record { opened = []; facts = ((Rel relation.Le (Var 0 sort.Int) (Var 1 sort.Int)) ∷ (Rel relation.Le (Var 1 sort.Int) (Of2 binary.Sub (Var 0 sort.Int) (Number (pos 1)))) ∷ []); locals = []; items = ((Data (Var 0 sort.Int) (Var 2 sort.Val) (Var 4 sort.List)) ∷ (Data (Var 1 sort.Int) (Var 3 sort.Val) (Var 5 sort.List)) ∷ []) }); post = (record { opened = []; facts = ([]); locals = []; items = ((Data (Var 0 sort.Int) (Var 2 sort.Val) (Var 4 sort.List)) ∷ (Data (Var 1 sort.Int) (Var 3 sort.Val) (Var 5 sort.List)) ∷ []) }) }) (record { temps = (name_p ∷ []); body = (c.Then (c.Return None) c.End) }) (s.Then 1 (s.Absurd ((record { lines = ((line.Comb (((pos 1), 0) ∷ ((pos 1), 1) ∷ [])) ∷ []) }) ∷ [])) s.NoBlock s.End) ≡ Accepted
unfolding computing
edges_161 = refl

edges_162 : body_verdict (record { predicates = ([]); specs = ((record { is_void = true; name = name_f; params = (name_p ∷ []); vars = ((name_s, sort.Int) ∷ (name_t, sort.Int) ∷ (name_v, sort.Val) ∷ (name_w, sort.Val) ∷ (name_k, sort.List) ∷ (name_m, sort.List) ∷ []); pre = (record { opened = []; facts = ((Rel relation.Le (Var 0 sort.Int) (Var 1 sort.Int)) ∷ (Rel relation.Le (Var 1 sort.Int) (Of2 binary.Sub (Var 0 sort.Int) (Number (pos 1)))) ∷ []); locals = []; items = ((Data (Var 0 sort.Int) (Var 2 sort.Val) (Var 4 sort.List)) ∷ (Data (Var 1 sort.Int) (Var 3 sort.Val) (Var 5 sort.List)) ∷ []) }); post = (record { opened = []; facts = ([]); locals = []; items = ((Data (Var 0 sort.Int) (Var 2 sort.Val) (Var 4 sort.List)) ∷ (Data (Var 1 sort.Int) (Var 3 sort.Val) (Var 5 sort.List)) ∷ []) }) }) ∷ []) }) (record { is_void = true; name = name_f; params = (name_p ∷ []); vars = ((name_s, sort.Int) ∷ (name_t, sort.Int) ∷ (name_v, sort.Val) ∷ (name_w, sort.Val) ∷ (name_k, sort.List) ∷ (name_m, sort.List) ∷ []); pre = (record { opened = []; facts = ((Rel relation.Le (Var 0 sort.Int) (Var 1 sort.Int)) ∷ (Rel relation.Le (Var 1 sort.Int) (Of2 binary.Sub (Var 0 sort.Int) (Number (pos 1)))) ∷ []); locals = []; items = ((Data (Var 0 sort.Int) (Var 2 sort.Val) (Var 4 sort.List)) ∷ (Data (Var 1 sort.Int) (Var 3 sort.Val) (Var 5 sort.List)) ∷ []) }); post = (record { opened = []; facts = ([]); locals = []; items = ((Data (Var 0 sort.Int) (Var 2 sort.Val) (Var 4 sort.List)) ∷ (Data (Var 1 sort.Int) (Var 3 sort.Val) (Var 5 sort.List)) ∷ []) }) }) (record { temps = (name_p ∷ []); body = (c.Then (c.Return None) c.End) }) (s.Then 1 (s.Absurd ([])) s.NoBlock s.End) ≡ (RefusedAt 1 24 3)
unfolding computing
edges_162 = refl

edges_163 : body_verdict (record { predicates = ([]); specs = ((record { is_void = true; name = name_f; params = (name_p ∷ []); vars = ((name_s, sort.Int) ∷ (name_t, sort.Int) ∷ (name_v, sort.Val) ∷ (name_w, sort.Val) ∷ (name_k, sort.List) ∷ (name_m, sort.List) ∷ []); pre = (record { opened = []; facts = ((Rel relation.Le (Number (pos 0)) (Of2 binary.Sub (Of2 binary.Mul (Number (pos 2)) (Var 0 sort.Int)) (Number (pos 1)))) ∷ []); locals = []; items = ((Data (Var 0 sort.Int) (Var 2 sort.Val) (Var 4 sort.List)) ∷ (Data (Var 1 sort.Int) (Var 3 sort.Val) (Var 5 sort.List)) ∷ []) }); post = (record { opened = []; facts = ((Rel relation.Le (Number (pos 1)) (Var 0 sort.Int)) ∷ []); locals = []; items = ((Data (Var 0 sort.Int) (Var 2 sort.Val) (Var 4 sort.List)) ∷ (Data (Var 1 sort.Int) (Var 3 sort.Val) (Var 5 sort.List)) ∷ []) }) }) ∷ []) }) (record { is_void = true; name = name_f; params = (name_p ∷ []); vars = ((name_s, sort.Int) ∷ (name_t, sort.Int) ∷ (name_v, sort.Val) ∷ (name_w, sort.Val) ∷ (name_k, sort.List) ∷ (name_m, sort.List) ∷ []); pre = (record { opened = []; facts = ((Rel relation.Le (Number (pos 0)) (Of2 binary.Sub (Of2 binary.Mul (Number (pos 2)) (Var 0 sort.Int)) (Number (pos 1)))) ∷ []); locals = []; items = ((Data (Var 0 sort.Int) (Var 2 sort.Val) (Var 4 sort.List)) ∷ (Data (Var 1 sort.Int) (Var 3 sort.Val) (Var 5 sort.List)) ∷ []) }); post = (record { opened = []; facts = ((Rel relation.Le (Number (pos 1)) (Var 0 sort.Int)) ∷ []); locals = []; items = ((Data (Var 0 sort.Int) (Var 2 sort.Val) (Var 4 sort.List)) ∷ (Data (Var 1 sort.Int) (Var 3 sort.Val) (Var 5 sort.List)) ∷ []) }) }) (record { temps = (name_p ∷ []); body = (c.Then (c.Return None) c.End) }) (s.Then 1 (s.Have (Rel relation.Le (Number (pos 1)) (Named name_s)) ((record { lines = ((line.Cut (pos 2) 0) ∷ (line.Comb (((pos 1), 2) ∷ ((pos 1), 1) ∷ [])) ∷ []) }) ∷ [])) s.NoBlock (s.Then 2 (s.Return ([]) ([]) ([])) s.NoBlock s.End)) ≡ Accepted
unfolding computing
edges_163 = refl

edges_164 : body_verdict (record { predicates = ([]); specs = ((record { is_void = true; name = name_f; params = (name_p ∷ []); vars = ((name_s, sort.Int) ∷ (name_t, sort.Int) ∷ (name_v, sort.Val) ∷ (name_w, sort.Val) ∷ (name_k, sort.List) ∷ (name_m, sort.List) ∷ []); pre = (record { opened = []; facts = ((Rel relation.Le (Number (pos 0)) (Of2 binary.Add (Of2 binary.Mul (Number (pos 2)) (Var 0 sort.Int)) (Number (pos 1)))) ∷ []); locals = []; items = ((Data (Var 0 sort.Int) (Var 2 sort.Val) (Var 4 sort.List)) ∷ (Data (Var 1 sort.Int) (Var 3 sort.Val) (Var 5 sort.List)) ∷ []) }); post = (record { opened = []; facts = ((Rel relation.Le (Number (pos 0)) (Var 0 sort.Int)) ∷ []); locals = []; items = ((Data (Var 0 sort.Int) (Var 2 sort.Val) (Var 4 sort.List)) ∷ (Data (Var 1 sort.Int) (Var 3 sort.Val) (Var 5 sort.List)) ∷ []) }) }) ∷ []) }) (record { is_void = true; name = name_f; params = (name_p ∷ []); vars = ((name_s, sort.Int) ∷ (name_t, sort.Int) ∷ (name_v, sort.Val) ∷ (name_w, sort.Val) ∷ (name_k, sort.List) ∷ (name_m, sort.List) ∷ []); pre = (record { opened = []; facts = ((Rel relation.Le (Number (pos 0)) (Of2 binary.Add (Of2 binary.Mul (Number (pos 2)) (Var 0 sort.Int)) (Number (pos 1)))) ∷ []); locals = []; items = ((Data (Var 0 sort.Int) (Var 2 sort.Val) (Var 4 sort.List)) ∷ (Data (Var 1 sort.Int) (Var 3 sort.Val) (Var 5 sort.List)) ∷ []) }); post = (record { opened = []; facts = ((Rel relation.Le (Number (pos 0)) (Var 0 sort.Int)) ∷ []); locals = []; items = ((Data (Var 0 sort.Int) (Var 2 sort.Val) (Var 4 sort.List)) ∷ (Data (Var 1 sort.Int) (Var 3 sort.Val) (Var 5 sort.List)) ∷ []) }) }) (record { temps = (name_p ∷ []); body = (c.Then (c.Return None) c.End) }) (s.Then 1 (s.Have (Rel relation.Le (Number (pos 0)) (Named name_s)) ((record { lines = ((line.Cut (pos 2) 0) ∷ (line.Comb (((pos 1), 2) ∷ ((pos 1), 1) ∷ [])) ∷ []) }) ∷ [])) s.NoBlock (s.Then 2 (s.Return ([]) ([]) ([])) s.NoBlock s.End)) ≡ Accepted
unfolding computing
edges_164 = refl

edges_165 : body_verdict (record { predicates = ([]); specs = ((record { is_void = true; name = name_f; params = (name_p ∷ []); vars = ((name_s, sort.Int) ∷ (name_t, sort.Int) ∷ (name_v, sort.Val) ∷ (name_w, sort.Val) ∷ (name_k, sort.List) ∷ (name_m, sort.List) ∷ []); pre = (record { opened = []; facts = ((Rel relation.Le (Number (pos 0)) (Of2 binary.Sub (Of2 binary.Sub (Number (pos 0)) (Of2 binary.Mul (Number (pos 2)) (Var 0 sort.Int))) (Number (pos 1)))) ∷ []); locals = []; items = ((Data (Var 0 sort.Int) (Var 2 sort.Val) (Var 4 sort.List)) ∷ (Data (Var 1 sort.Int) (Var 3 sort.Val) (Var 5 sort.List)) ∷ []) }); post = (record { opened = []; facts = ([]); locals = []; items = ((Data (Var 0 sort.Int) (Var 2 sort.Val) (Var 4 sort.List)) ∷ (Data (Var 1 sort.Int) (Var 3 sort.Val) (Var 5 sort.List)) ∷ []) }) }) ∷ []) }) (record { is_void = true; name = name_f; params = (name_p ∷ []); vars = ((name_s, sort.Int) ∷ (name_t, sort.Int) ∷ (name_v, sort.Val) ∷ (name_w, sort.Val) ∷ (name_k, sort.List) ∷ (name_m, sort.List) ∷ []); pre = (record { opened = []; facts = ((Rel relation.Le (Number (pos 0)) (Of2 binary.Sub (Of2 binary.Sub (Number (pos 0)) (Of2 binary.Mul (Number (pos 2)) (Var 0 sort.Int))) (Number (pos 1)))) ∷ []); locals = []; items = ((Data (Var 0 sort.Int) (Var 2 sort.Val) (Var 4 sort.List)) ∷ (Data (Var 1 sort.Int) (Var 3 sort.Val) (Var 5 sort.List)) ∷ []) }); post = (record { opened = []; facts = ([]); locals = []; items = ((Data (Var 0 sort.Int) (Var 2 sort.Val) (Var 4 sort.List)) ∷ (Data (Var 1 sort.Int) (Var 3 sort.Val) (Var 5 sort.List)) ∷ []) }) }) (record { temps = (name_p ∷ []); body = (c.Then (c.Return None) c.End) }) (s.Then 1 (s.Have (Rel relation.Le (Named name_s) (Of2 binary.Sub (Number (pos 0)) (Number (pos 1)))) ((record { lines = ((line.Cut (pos 2) 0) ∷ (line.Comb (((pos 1), 2) ∷ ((pos 1), 1) ∷ [])) ∷ []) }) ∷ [])) s.NoBlock (s.Then 2 (s.Return ([]) ([]) ([])) s.NoBlock s.End)) ≡ Accepted
unfolding computing
edges_165 = refl

edges_166 : body_verdict (record { predicates = ([]); specs = ((record { is_void = true; name = name_f; params = (name_p ∷ []); vars = ((name_s, sort.Int) ∷ (name_t, sort.Int) ∷ (name_v, sort.Val) ∷ (name_w, sort.Val) ∷ (name_k, sort.List) ∷ (name_m, sort.List) ∷ []); pre = (record { opened = []; facts = ((Rel relation.Le (Number (pos 0)) (Of2 binary.Add (Of2 binary.Mul (Number (pos 3)) (Var 0 sort.Int)) (Of2 binary.Mul (Number (pos 2)) (Var 1 sort.Int)))) ∷ []); locals = []; items = ((Data (Var 0 sort.Int) (Var 2 sort.Val) (Var 4 sort.List)) ∷ (Data (Var 1 sort.Int) (Var 3 sort.Val) (Var 5 sort.List)) ∷ []) }); post = (record { opened = []; facts = ([]); locals = []; items = ((Data (Var 0 sort.Int) (Var 2 sort.Val) (Var 4 sort.List)) ∷ (Data (Var 1 sort.Int) (Var 3 sort.Val) (Var 5 sort.List)) ∷ []) }) }) ∷ []) }) (record { is_void = true; name = name_f; params = (name_p ∷ []); vars = ((name_s, sort.Int) ∷ (name_t, sort.Int) ∷ (name_v, sort.Val) ∷ (name_w, sort.Val) ∷ (name_k, sort.List) ∷ (name_m, sort.List) ∷ []); pre = (record { opened = []; facts = ((Rel relation.Le (Number (pos 0)) (Of2 binary.Add (Of2 binary.Mul (Number (pos 3)) (Var 0 sort.Int)) (Of2 binary.Mul (Number (pos 2)) (Var 1 sort.Int)))) ∷ []); locals = []; items = ((Data (Var 0 sort.Int) (Var 2 sort.Val) (Var 4 sort.List)) ∷ (Data (Var 1 sort.Int) (Var 3 sort.Val) (Var 5 sort.List)) ∷ []) }); post = (record { opened = []; facts = ([]); locals = []; items = ((Data (Var 0 sort.Int) (Var 2 sort.Val) (Var 4 sort.List)) ∷ (Data (Var 1 sort.Int) (Var 3 sort.Val) (Var 5 sort.List)) ∷ []) }) }) (record { temps = (name_p ∷ []); body = (c.Then (c.Return None) c.End) }) (s.Then 1 (s.Have (Rel relation.Le (Number (pos 0)) (Named name_s)) ((record { lines = ((line.Cut (pos 2) 0) ∷ (line.Comb (((pos 1), 2) ∷ ((pos 1), 1) ∷ [])) ∷ []) }) ∷ [])) s.NoBlock (s.Then 2 (s.Return ([]) ([]) ([])) s.NoBlock s.End)) ≡ (RefusedAt 1 25 3)
unfolding computing
edges_166 = refl

edges_167 : body_verdict (record { predicates = ([]); specs = ((record { is_void = true; name = name_f; params = (name_p ∷ []); vars = ((name_s, sort.Int) ∷ (name_t, sort.Int) ∷ (name_v, sort.Val) ∷ (name_w, sort.Val) ∷ (name_k, sort.List) ∷ (name_m, sort.List) ∷ []); pre = (record { opened = []; facts = ((Rel relation.Le (Var 0 sort.Int) (Var 1 sort.Int)) ∷ (Rel relation.Le (Var 1 sort.Int) (Var 0 sort.Int)) ∷ []); locals = []; items = ((Data (Var 0 sort.Int) (Var 2 sort.Val) (Var 4 sort.List)) ∷ (Data (Var 1 sort.Int) (Var 3 sort.Val) (Var 5 sort.List)) ∷ []) }); post = (record { opened = []; facts = ([]); locals = []; items = ((Data (Var 0 sort.Int) (Var 2 sort.Val) (Var 4 sort.List)) ∷ (Data (Var 1 sort.Int) (Var 3 sort.Val) (Var 5 sort.List)) ∷ []) }) }) ∷ []) }) (record { is_void = true; name = name_f; params = (name_p ∷ []); vars = ((name_s, sort.Int) ∷ (name_t, sort.Int) ∷ (name_v, sort.Val) ∷ (name_w, sort.Val) ∷ (name_k, sort.List) ∷ (name_m, sort.List) ∷ []); pre = (record { opened = []; facts = ((Rel relation.Le (Var 0 sort.Int) (Var 1 sort.Int)) ∷ (Rel relation.Le (Var 1 sort.Int) (Var 0 sort.Int)) ∷ []); locals = []; items = ((Data (Var 0 sort.Int) (Var 2 sort.Val) (Var 4 sort.List)) ∷ (Data (Var 1 sort.Int) (Var 3 sort.Val) (Var 5 sort.List)) ∷ []) }); post = (record { opened = []; facts = ([]); locals = []; items = ((Data (Var 0 sort.Int) (Var 2 sort.Val) (Var 4 sort.List)) ∷ (Data (Var 1 sort.Int) (Var 3 sort.Val) (Var 5 sort.List)) ∷ []) }) }) (record { temps = (name_p ∷ []); body = (c.Then (c.Return None) c.End) }) (s.Then 1 (s.Have (Rel relation.Eq (Of2 binary.Add (Named name_s) (Number (pos 1))) (Of2 binary.Add (Named name_t) (Number (pos 1)))) ((record { lines = ((line.Comb (((pos 1), 0) ∷ ((pos 1), 2) ∷ [])) ∷ []) }) ∷ (record { lines = ((line.Comb (((pos 1), 1) ∷ ((pos 1), 2) ∷ [])) ∷ []) }) ∷ [])) s.NoBlock (s.Then 2 (s.Return ([]) ([]) ([])) s.NoBlock s.End)) ≡ Accepted
unfolding computing
edges_167 = refl

edges_168 : body_verdict (record { predicates = ([]); specs = ((record { is_void = true; name = name_f; params = (name_p ∷ []); vars = ((name_s, sort.Int) ∷ (name_t, sort.Int) ∷ (name_v, sort.Val) ∷ (name_w, sort.Val) ∷ (name_k, sort.List) ∷ (name_m, sort.List) ∷ []); pre = (record { opened = []; facts = ((Rel relation.Le (Var 0 sort.Int) (Var 1 sort.Int)) ∷ (Rel relation.Le (Var 1 sort.Int) (Var 0 sort.Int)) ∷ []); locals = []; items = ((Data (Var 0 sort.Int) (Var 2 sort.Val) (Var 4 sort.List)) ∷ (Data (Var 1 sort.Int) (Var 3 sort.Val) (Var 5 sort.List)) ∷ []) }); post = (record { opened = []; facts = ([]); locals = []; items = ((Data (Var 0 sort.Int) (Var 2 sort.Val) (Var 4 sort.List)) ∷ (Data (Var 1 sort.Int) (Var 3 sort.Val) (Var 5 sort.List)) ∷ []) }) }) ∷ []) }) (record { is_void = true; name = name_f; params = (name_p ∷ []); vars = ((name_s, sort.Int) ∷ (name_t, sort.Int) ∷ (name_v, sort.Val) ∷ (name_w, sort.Val) ∷ (name_k, sort.List) ∷ (name_m, sort.List) ∷ []); pre = (record { opened = []; facts = ((Rel relation.Le (Var 0 sort.Int) (Var 1 sort.Int)) ∷ (Rel relation.Le (Var 1 sort.Int) (Var 0 sort.Int)) ∷ []); locals = []; items = ((Data (Var 0 sort.Int) (Var 2 sort.Val) (Var 4 sort.List)) ∷ (Data (Var 1 sort.Int) (Var 3 sort.Val) (Var 5 sort.List)) ∷ []) }); post = (record { opened = []; facts = ([]); locals = []; items = ((Data (Var 0 sort.Int) (Var 2 sort.Val) (Var 4 sort.List)) ∷ (Data (Var 1 sort.Int) (Var 3 sort.Val) (Var 5 sort.List)) ∷ []) }) }) (record { temps = (name_p ∷ []); body = (c.Then (c.Return None) c.End) }) (s.Then 1 (s.Have (Rel relation.Eq (Of2 binary.Add (Named name_t) (Number (pos 1))) (Of2 binary.Add (Named name_s) (Number (pos 1)))) ((record { lines = ((line.Comb (((pos 1), 0) ∷ ((pos 1), 2) ∷ [])) ∷ []) }) ∷ (record { lines = ((line.Comb (((pos 1), 1) ∷ ((pos 1), 2) ∷ [])) ∷ []) }) ∷ [])) s.NoBlock (s.Then 2 (s.Return ([]) ([]) ([])) s.NoBlock s.End)) ≡ (RefusedAt 1 25 3)
unfolding computing
edges_168 = refl

edges_169 : body_verdict (record { predicates = ([]); specs = ((record { is_void = true; name = name_f; params = (name_p ∷ []); vars = ((name_s, sort.Int) ∷ (name_t, sort.Int) ∷ (name_v, sort.Val) ∷ (name_w, sort.Val) ∷ (name_k, sort.List) ∷ (name_m, sort.List) ∷ []); pre = (record { opened = []; facts = ((Rel relation.Le (Var 0 sort.Int) (Var 1 sort.Int)) ∷ (Rel relation.Le (Var 1 sort.Int) (Var 0 sort.Int)) ∷ []); locals = []; items = ((Data (Var 0 sort.Int) (Var 2 sort.Val) (Var 4 sort.List)) ∷ (Data (Var 1 sort.Int) (Var 3 sort.Val) (Var 5 sort.List)) ∷ []) }); post = (record { opened = []; facts = ([]); locals = []; items = ((Data (Var 0 sort.Int) (Var 2 sort.Val) (Var 4 sort.List)) ∷ (Data (Var 1 sort.Int) (Var 3 sort.Val) (Var 5 sort.List)) ∷ []) }) }) ∷ []) }) (record { is_void = true; name = name_f; params = (name_p ∷ []); vars = ((name_s, sort.Int) ∷ (name_t, sort.Int) ∷ (name_v, sort.Val) ∷ (name_w, sort.Val) ∷ (name_k, sort.List) ∷ (name_m, sort.List) ∷ []); pre = (record { opened = []; facts = ((Rel relation.Le (Var 0 sort.Int) (Var 1 sort.Int)) ∷ (Rel relation.Le (Var 1 sort.Int) (Var 0 sort.Int)) ∷ []); locals = []; items = ((Data (Var 0 sort.Int) (Var 2 sort.Val) (Var 4 sort.List)) ∷ (Data (Var 1 sort.Int) (Var 3 sort.Val) (Var 5 sort.List)) ∷ []) }); post = (record { opened = []; facts = ([]); locals = []; items = ((Data (Var 0 sort.Int) (Var 2 sort.Val) (Var 4 sort.List)) ∷ (Data (Var 1 sort.Int) (Var 3 sort.Val) (Var 5 sort.List)) ∷ []) }) }) (record { temps = (name_p ∷ []); body = (c.Then (c.Return None) c.End) }) (s.Then 1 (s.Have (Rel relation.Eq (Of2 binary.Add (Named name_s) (Number (pos 1))) (Of2 binary.Add (Named name_t) (Number (pos 1)))) ((record { lines = ((line.Comb (((pos 1), 1) ∷ ((pos 1), 2) ∷ [])) ∷ []) }) ∷ (record { lines = ((line.Comb (((pos 1), 0) ∷ ((pos 1), 2) ∷ [])) ∷ []) }) ∷ [])) s.NoBlock (s.Then 2 (s.Return ([]) ([]) ([])) s.NoBlock s.End)) ≡ (RefusedAt 1 25 3)
unfolding computing
edges_169 = refl

edges_170 : body_verdict (record { predicates = ([]); specs = ((record { is_void = true; name = name_f; params = (name_p ∷ []); vars = ((name_s, sort.Int) ∷ (name_t, sort.Int) ∷ (name_v, sort.Val) ∷ (name_w, sort.Val) ∷ (name_k, sort.List) ∷ (name_m, sort.List) ∷ []); pre = (record { opened = []; facts = ((Rel relation.Le (Var 0 sort.Int) (Var 1 sort.Int)) ∷ (Rel relation.Le (Var 1 sort.Int) (Var 0 sort.Int)) ∷ []); locals = []; items = ((Data (Var 0 sort.Int) (Var 2 sort.Val) (Var 4 sort.List)) ∷ (Data (Var 1 sort.Int) (Var 3 sort.Val) (Var 5 sort.List)) ∷ []) }); post = (record { opened = []; facts = ([]); locals = []; items = ((Data (Var 0 sort.Int) (Var 2 sort.Val) (Var 4 sort.List)) ∷ (Data (Var 1 sort.Int) (Var 3 sort.Val) (Var 5 sort.List)) ∷ []) }) }) ∷ []) }) (record { is_void = true; name = name_f; params = (name_p ∷ []); vars = ((name_s, sort.Int) ∷ (name_t, sort.Int) ∷ (name_v, sort.Val) ∷ (name_w, sort.Val) ∷ (name_k, sort.List) ∷ (name_m, sort.List) ∷ []); pre = (record { opened = []; facts = ((Rel relation.Le (Var 0 sort.Int) (Var 1 sort.Int)) ∷ (Rel relation.Le (Var 1 sort.Int) (Var 0 sort.Int)) ∷ []); locals = []; items = ((Data (Var 0 sort.Int) (Var 2 sort.Val) (Var 4 sort.List)) ∷ (Data (Var 1 sort.Int) (Var 3 sort.Val) (Var 5 sort.List)) ∷ []) }); post = (record { opened = []; facts = ([]); locals = []; items = ((Data (Var 0 sort.Int) (Var 2 sort.Val) (Var 4 sort.List)) ∷ (Data (Var 1 sort.Int) (Var 3 sort.Val) (Var 5 sort.List)) ∷ []) }) }) (record { temps = (name_p ∷ []); body = (c.Then (c.Return None) c.End) }) (s.Then 1 (s.Have (Rel relation.Eq (Of2 binary.Add (Named name_t) (Number (pos 1))) (Of2 binary.Add (Named name_s) (Number (pos 1)))) ((record { lines = ((line.Comb (((pos 1), 1) ∷ ((pos 1), 2) ∷ [])) ∷ []) }) ∷ (record { lines = ((line.Comb (((pos 1), 0) ∷ ((pos 1), 2) ∷ [])) ∷ []) }) ∷ [])) s.NoBlock (s.Then 2 (s.Return ([]) ([]) ([])) s.NoBlock s.End)) ≡ Accepted
unfolding computing
edges_170 = refl

edges_171 : body_verdict (record { predicates = ([]); specs = ((record { is_void = true; name = name_f; params = (name_p ∷ []); vars = ((name_s, sort.Int) ∷ (name_t, sort.Int) ∷ (name_v, sort.Val) ∷ (name_w, sort.Val) ∷ (name_k, sort.List) ∷ (name_m, sort.List) ∷ []); pre = (record { opened = []; facts = ((Rel relation.Le (Var 0 sort.Int) (Var 1 sort.Int)) ∷ (Rel relation.Le (Var 1 sort.Int) (Var 0 sort.Int)) ∷ []); locals = []; items = ((Data (Var 0 sort.Int) (Var 2 sort.Val) (Var 4 sort.List)) ∷ (Data (Var 1 sort.Int) (Var 3 sort.Val) (Var 5 sort.List)) ∷ []) }); post = (record { opened = []; facts = ([]); locals = []; items = ((Data (Var 0 sort.Int) (Var 2 sort.Val) (Var 4 sort.List)) ∷ (Data (Var 1 sort.Int) (Var 3 sort.Val) (Var 5 sort.List)) ∷ []) }) }) ∷ []) }) (record { is_void = true; name = name_f; params = (name_p ∷ []); vars = ((name_s, sort.Int) ∷ (name_t, sort.Int) ∷ (name_v, sort.Val) ∷ (name_w, sort.Val) ∷ (name_k, sort.List) ∷ (name_m, sort.List) ∷ []); pre = (record { opened = []; facts = ((Rel relation.Le (Var 0 sort.Int) (Var 1 sort.Int)) ∷ (Rel relation.Le (Var 1 sort.Int) (Var 0 sort.Int)) ∷ []); locals = []; items = ((Data (Var 0 sort.Int) (Var 2 sort.Val) (Var 4 sort.List)) ∷ (Data (Var 1 sort.Int) (Var 3 sort.Val) (Var 5 sort.List)) ∷ []) }); post = (record { opened = []; facts = ([]); locals = []; items = ((Data (Var 0 sort.Int) (Var 2 sort.Val) (Var 4 sort.List)) ∷ (Data (Var 1 sort.Int) (Var 3 sort.Val) (Var 5 sort.List)) ∷ []) }) }) (record { temps = (name_p ∷ []); body = (c.Then (c.Return None) c.End) }) (s.Then 1 (s.Have (Rel relation.Eq (Of2 binary.Add (Named name_s) (Number (pos 1))) (Of2 binary.Add (Named name_t) (Number (pos 1)))) ((record { lines = ((line.Comb (((pos 1), 0) ∷ ((pos 1), 2) ∷ [])) ∷ []) }) ∷ [])) s.NoBlock (s.Then 2 (s.Return ([]) ([]) ([])) s.NoBlock s.End)) ≡ (RefusedAt 1 25 3)
unfolding computing
edges_171 = refl

edges_172 : body_verdict (record { predicates = ([]); specs = ((record { is_void = true; name = name_f; params = (name_p ∷ []); vars = ((name_s, sort.Int) ∷ (name_t, sort.Int) ∷ (name_v, sort.Val) ∷ (name_w, sort.Val) ∷ (name_k, sort.List) ∷ (name_m, sort.List) ∷ []); pre = (record { opened = []; facts = ((Rel relation.Le (Var 0 sort.Int) (Var 1 sort.Int)) ∷ (Rel relation.Le (Var 1 sort.Int) (Var 0 sort.Int)) ∷ []); locals = []; items = ((Data (Var 0 sort.Int) (Var 2 sort.Val) (Var 4 sort.List)) ∷ (Data (Var 1 sort.Int) (Var 3 sort.Val) (Var 5 sort.List)) ∷ []) }); post = (record { opened = []; facts = ([]); locals = []; items = ((Data (Var 0 sort.Int) (Var 2 sort.Val) (Var 4 sort.List)) ∷ (Data (Var 1 sort.Int) (Var 3 sort.Val) (Var 5 sort.List)) ∷ []) }) }) ∷ []) }) (record { is_void = true; name = name_f; params = (name_p ∷ []); vars = ((name_s, sort.Int) ∷ (name_t, sort.Int) ∷ (name_v, sort.Val) ∷ (name_w, sort.Val) ∷ (name_k, sort.List) ∷ (name_m, sort.List) ∷ []); pre = (record { opened = []; facts = ((Rel relation.Le (Var 0 sort.Int) (Var 1 sort.Int)) ∷ (Rel relation.Le (Var 1 sort.Int) (Var 0 sort.Int)) ∷ []); locals = []; items = ((Data (Var 0 sort.Int) (Var 2 sort.Val) (Var 4 sort.List)) ∷ (Data (Var 1 sort.Int) (Var 3 sort.Val) (Var 5 sort.List)) ∷ []) }); post = (record { opened = []; facts = ([]); locals = []; items = ((Data (Var 0 sort.Int) (Var 2 sort.Val) (Var 4 sort.List)) ∷ (Data (Var 1 sort.Int) (Var 3 sort.Val) (Var 5 sort.List)) ∷ []) }) }) (record { temps = (name_p ∷ []); body = (c.Then (c.Return None) c.End) }) (s.Then 1 (s.Have (Rel relation.Eq (Of2 binary.Add (Named name_t) (Number (pos 1))) (Of2 binary.Add (Named name_s) (Number (pos 1)))) ((record { lines = ((line.Comb (((pos 1), 0) ∷ ((pos 1), 2) ∷ [])) ∷ []) }) ∷ [])) s.NoBlock (s.Then 2 (s.Return ([]) ([]) ([])) s.NoBlock s.End)) ≡ (RefusedAt 1 25 3)
unfolding computing
edges_172 = refl

edges_173 : body_verdict (record { predicates = ([]); specs = ((record { is_void = true; name = name_f; params = (name_p ∷ []); vars = ((name_s, sort.Int) ∷ (name_t, sort.Int) ∷ (name_v, sort.Val) ∷ (name_w, sort.Val) ∷ (name_k, sort.List) ∷ (name_m, sort.List) ∷ []); pre = (record { opened = []; facts = ((Rel relation.Le (Var 0 sort.Int) (Var 1 sort.Int)) ∷ (Rel relation.Le (Var 1 sort.Int) (Var 0 sort.Int)) ∷ []); locals = []; items = ((Data (Var 0 sort.Int) (Var 2 sort.Val) (Var 4 sort.List)) ∷ (Data (Var 1 sort.Int) (Var 3 sort.Val) (Var 5 sort.List)) ∷ []) }); post = (record { opened = []; facts = ([]); locals = []; items = ((Data (Var 0 sort.Int) (Var 2 sort.Val) (Var 4 sort.List)) ∷ (Data (Var 1 sort.Int) (Var 3 sort.Val) (Var 5 sort.List)) ∷ []) }) }) ∷ []) }) (record { is_void = true; name = name_f; params = (name_p ∷ []); vars = ((name_s, sort.Int) ∷ (name_t, sort.Int) ∷ (name_v, sort.Val) ∷ (name_w, sort.Val) ∷ (name_k, sort.List) ∷ (name_m, sort.List) ∷ []); pre = (record { opened = []; facts = ((Rel relation.Le (Var 0 sort.Int) (Var 1 sort.Int)) ∷ (Rel relation.Le (Var 1 sort.Int) (Var 0 sort.Int)) ∷ []); locals = []; items = ((Data (Var 0 sort.Int) (Var 2 sort.Val) (Var 4 sort.List)) ∷ (Data (Var 1 sort.Int) (Var 3 sort.Val) (Var 5 sort.List)) ∷ []) }); post = (record { opened = []; facts = ([]); locals = []; items = ((Data (Var 0 sort.Int) (Var 2 sort.Val) (Var 4 sort.List)) ∷ (Data (Var 1 sort.Int) (Var 3 sort.Val) (Var 5 sort.List)) ∷ []) }) }) (record { temps = (name_p ∷ []); body = (c.Then (c.Return None) c.End) }) (s.Then 1 (s.Have (Rel relation.Eq (Of2 binary.Add (Named name_s) (Number (pos 1))) (Of2 binary.Add (Named name_t) (Number (pos 1)))) ((record { lines = ((line.Comb (((pos 1), 0) ∷ ((pos 1), 2) ∷ [])) ∷ []) }) ∷ (record { lines = ((line.Comb (((pos 1), 1) ∷ ((pos 1), 2) ∷ [])) ∷ []) }) ∷ (record { lines = ((line.Comb (((pos 1), 0) ∷ [])) ∷ []) }) ∷ [])) s.NoBlock (s.Then 2 (s.Return ([]) ([]) ([])) s.NoBlock s.End)) ≡ (RefusedAt 1 25 3)
unfolding computing
edges_173 = refl

edges_174 : body_verdict (record { predicates = ([]); specs = ((record { is_void = true; name = name_f; params = (name_p ∷ []); vars = ((name_s, sort.Int) ∷ (name_t, sort.Int) ∷ (name_v, sort.Val) ∷ (name_w, sort.Val) ∷ (name_k, sort.List) ∷ (name_m, sort.List) ∷ []); pre = (record { opened = []; facts = ((Rel relation.Le (Var 0 sort.Int) (Var 1 sort.Int)) ∷ (Rel relation.Le (Var 1 sort.Int) (Var 0 sort.Int)) ∷ []); locals = []; items = ((Data (Var 0 sort.Int) (Var 2 sort.Val) (Var 4 sort.List)) ∷ (Data (Var 1 sort.Int) (Var 3 sort.Val) (Var 5 sort.List)) ∷ []) }); post = (record { opened = []; facts = ([]); locals = []; items = ((Data (Var 0 sort.Int) (Var 2 sort.Val) (Var 4 sort.List)) ∷ (Data (Var 1 sort.Int) (Var 3 sort.Val) (Var 5 sort.List)) ∷ []) }) }) ∷ []) }) (record { is_void = true; name = name_f; params = (name_p ∷ []); vars = ((name_s, sort.Int) ∷ (name_t, sort.Int) ∷ (name_v, sort.Val) ∷ (name_w, sort.Val) ∷ (name_k, sort.List) ∷ (name_m, sort.List) ∷ []); pre = (record { opened = []; facts = ((Rel relation.Le (Var 0 sort.Int) (Var 1 sort.Int)) ∷ (Rel relation.Le (Var 1 sort.Int) (Var 0 sort.Int)) ∷ []); locals = []; items = ((Data (Var 0 sort.Int) (Var 2 sort.Val) (Var 4 sort.List)) ∷ (Data (Var 1 sort.Int) (Var 3 sort.Val) (Var 5 sort.List)) ∷ []) }); post = (record { opened = []; facts = ([]); locals = []; items = ((Data (Var 0 sort.Int) (Var 2 sort.Val) (Var 4 sort.List)) ∷ (Data (Var 1 sort.Int) (Var 3 sort.Val) (Var 5 sort.List)) ∷ []) }) }) (record { temps = (name_p ∷ []); body = (c.Then (c.Return None) c.End) }) (s.Then 1 (s.Have (Rel relation.Eq (Of2 binary.Add (Named name_t) (Number (pos 1))) (Of2 binary.Add (Named name_s) (Number (pos 1)))) ((record { lines = ((line.Comb (((pos 1), 0) ∷ ((pos 1), 2) ∷ [])) ∷ []) }) ∷ (record { lines = ((line.Comb (((pos 1), 1) ∷ ((pos 1), 2) ∷ [])) ∷ []) }) ∷ (record { lines = ((line.Comb (((pos 1), 0) ∷ [])) ∷ []) }) ∷ [])) s.NoBlock (s.Then 2 (s.Return ([]) ([]) ([])) s.NoBlock s.End)) ≡ (RefusedAt 1 25 3)
unfolding computing
edges_174 = refl

edges_175 : body_verdict (record { predicates = ([]); specs = ((record { is_void = true; name = name_f; params = (name_p ∷ []); vars = ((name_s, sort.Int) ∷ (name_t, sort.Int) ∷ (name_v, sort.Val) ∷ (name_w, sort.Val) ∷ (name_k, sort.List) ∷ (name_m, sort.List) ∷ []); pre = (record { opened = []; facts = ((Rel relation.Lt (Var 0 sort.Int) (Var 1 sort.Int)) ∷ []); locals = []; items = ((Data (Var 0 sort.Int) (Var 2 sort.Val) (Var 4 sort.List)) ∷ (Data (Var 1 sort.Int) (Var 3 sort.Val) (Var 5 sort.List)) ∷ []) }); post = (record { opened = []; facts = ([]); locals = []; items = ((Data (Var 0 sort.Int) (Var 2 sort.Val) (Var 4 sort.List)) ∷ (Data (Var 1 sort.Int) (Var 3 sort.Val) (Var 5 sort.List)) ∷ []) }) }) ∷ []) }) (record { is_void = true; name = name_f; params = (name_p ∷ []); vars = ((name_s, sort.Int) ∷ (name_t, sort.Int) ∷ (name_v, sort.Val) ∷ (name_w, sort.Val) ∷ (name_k, sort.List) ∷ (name_m, sort.List) ∷ []); pre = (record { opened = []; facts = ((Rel relation.Lt (Var 0 sort.Int) (Var 1 sort.Int)) ∷ []); locals = []; items = ((Data (Var 0 sort.Int) (Var 2 sort.Val) (Var 4 sort.List)) ∷ (Data (Var 1 sort.Int) (Var 3 sort.Val) (Var 5 sort.List)) ∷ []) }); post = (record { opened = []; facts = ([]); locals = []; items = ((Data (Var 0 sort.Int) (Var 2 sort.Val) (Var 4 sort.List)) ∷ (Data (Var 1 sort.Int) (Var 3 sort.Val) (Var 5 sort.List)) ∷ []) }) }) (record { temps = (name_p ∷ []); body = (c.Then (c.Return None) c.End) }) (s.Then 1 (s.Have (Rel relation.Ne (Of2 binary.Add (Named name_s) (Number (pos 1))) (Of2 binary.Add (Named name_t) (Number (pos 1)))) ((record { lines = ((line.Comb (((pos 1), 0) ∷ ((pos 1), 1) ∷ [])) ∷ []) }) ∷ [])) s.NoBlock (s.Then 2 (s.Return ([]) ([]) ([])) s.NoBlock s.End)) ≡ Accepted
unfolding computing
edges_175 = refl

edges_176 : body_verdict (record { predicates = ([]); specs = ((record { is_void = true; name = name_f; params = (name_p ∷ []); vars = ((name_s, sort.Int) ∷ (name_t, sort.Int) ∷ (name_v, sort.Val) ∷ (name_w, sort.Val) ∷ (name_k, sort.List) ∷ (name_m, sort.List) ∷ []); pre = (record { opened = []; facts = ((Rel relation.Lt (Var 0 sort.Int) (Var 1 sort.Int)) ∷ []); locals = []; items = ((Data (Var 0 sort.Int) (Var 2 sort.Val) (Var 4 sort.List)) ∷ (Data (Var 1 sort.Int) (Var 3 sort.Val) (Var 5 sort.List)) ∷ []) }); post = (record { opened = []; facts = ([]); locals = []; items = ((Data (Var 0 sort.Int) (Var 2 sort.Val) (Var 4 sort.List)) ∷ (Data (Var 1 sort.Int) (Var 3 sort.Val) (Var 5 sort.List)) ∷ []) }) }) ∷ []) }) (record { is_void = true; name = name_f; params = (name_p ∷ []); vars = ((name_s, sort.Int) ∷ (name_t, sort.Int) ∷ (name_v, sort.Val) ∷ (name_w, sort.Val) ∷ (name_k, sort.List) ∷ (name_m, sort.List) ∷ []); pre = (record { opened = []; facts = ((Rel relation.Lt (Var 0 sort.Int) (Var 1 sort.Int)) ∷ []); locals = []; items = ((Data (Var 0 sort.Int) (Var 2 sort.Val) (Var 4 sort.List)) ∷ (Data (Var 1 sort.Int) (Var 3 sort.Val) (Var 5 sort.List)) ∷ []) }); post = (record { opened = []; facts = ([]); locals = []; items = ((Data (Var 0 sort.Int) (Var 2 sort.Val) (Var 4 sort.List)) ∷ (Data (Var 1 sort.Int) (Var 3 sort.Val) (Var 5 sort.List)) ∷ []) }) }) (record { temps = (name_p ∷ []); body = (c.Then (c.Return None) c.End) }) (s.Then 1 (s.Have (Rel relation.Ne (Named name_s) (Named name_t)) ((record { lines = ((line.Comb (((pos 1), 0) ∷ ((pos 1), 1) ∷ [])) ∷ []) }) ∷ [])) s.NoBlock (s.Then 2 (s.Return ([]) ([]) ([])) s.NoBlock s.End)) ≡ Accepted
unfolding computing
edges_176 = refl

edges_177 : body_verdict (record { predicates = ([]); specs = ((record { is_void = true; name = name_f; params = (name_p ∷ []); vars = ((name_s, sort.Int) ∷ (name_t, sort.Int) ∷ (name_v, sort.Val) ∷ (name_w, sort.Val) ∷ (name_k, sort.List) ∷ (name_m, sort.List) ∷ []); pre = (record { opened = []; facts = ((Rel relation.Lt (Var 0 sort.Int) (Var 1 sort.Int)) ∷ []); locals = []; items = ((Data (Var 0 sort.Int) (Var 2 sort.Val) (Var 4 sort.List)) ∷ (Data (Var 1 sort.Int) (Var 3 sort.Val) (Var 5 sort.List)) ∷ []) }); post = (record { opened = []; facts = ([]); locals = []; items = ((Data (Var 0 sort.Int) (Var 2 sort.Val) (Var 4 sort.List)) ∷ (Data (Var 1 sort.Int) (Var 3 sort.Val) (Var 5 sort.List)) ∷ []) }) }) ∷ []) }) (record { is_void = true; name = name_f; params = (name_p ∷ []); vars = ((name_s, sort.Int) ∷ (name_t, sort.Int) ∷ (name_v, sort.Val) ∷ (name_w, sort.Val) ∷ (name_k, sort.List) ∷ (name_m, sort.List) ∷ []); pre = (record { opened = []; facts = ((Rel relation.Lt (Var 0 sort.Int) (Var 1 sort.Int)) ∷ []); locals = []; items = ((Data (Var 0 sort.Int) (Var 2 sort.Val) (Var 4 sort.List)) ∷ (Data (Var 1 sort.Int) (Var 3 sort.Val) (Var 5 sort.List)) ∷ []) }); post = (record { opened = []; facts = ([]); locals = []; items = ((Data (Var 0 sort.Int) (Var 2 sort.Val) (Var 4 sort.List)) ∷ (Data (Var 1 sort.Int) (Var 3 sort.Val) (Var 5 sort.List)) ∷ []) }) }) (record { temps = (name_p ∷ []); body = (c.Then (c.Return None) c.End) }) (s.Then 1 (s.Have (Rel relation.Le (Of2 binary.Add (Named name_s) (Number (pos 1))) (Named name_t)) ((record { lines = ((line.Comb (((pos 1), 0) ∷ ((pos 1), 1) ∷ [])) ∷ []) }) ∷ [])) s.NoBlock (s.Then 2 (s.Return ([]) ([]) ([])) s.NoBlock s.End)) ≡ (RefusedAt 1 25 3)
unfolding computing
edges_177 = refl

edges_178 : body_verdict (record { predicates = ([]); specs = ((record { is_void = true; name = name_f; params = (name_p ∷ []); vars = ((name_s, sort.Int) ∷ (name_t, sort.Int) ∷ (name_v, sort.Val) ∷ (name_w, sort.Val) ∷ (name_k, sort.List) ∷ (name_m, sort.List) ∷ []); pre = (record { opened = []; facts = ((Rel relation.Lt (Var 1 sort.Int) (Var 0 sort.Int)) ∷ []); locals = []; items = ((Data (Var 0 sort.Int) (Var 2 sort.Val) (Var 4 sort.List)) ∷ (Data (Var 1 sort.Int) (Var 3 sort.Val) (Var 5 sort.List)) ∷ []) }); post = (record { opened = []; facts = ([]); locals = []; items = ((Data (Var 0 sort.Int) (Var 2 sort.Val) (Var 4 sort.List)) ∷ (Data (Var 1 sort.Int) (Var 3 sort.Val) (Var 5 sort.List)) ∷ []) }) }) ∷ []) }) (record { is_void = true; name = name_f; params = (name_p ∷ []); vars = ((name_s, sort.Int) ∷ (name_t, sort.Int) ∷ (name_v, sort.Val) ∷ (name_w, sort.Val) ∷ (name_k, sort.List) ∷ (name_m, sort.List) ∷ []); pre = (record { opened = []; facts = ((Rel relation.Lt (Var 1 sort.Int) (Var 0 sort.Int)) ∷ []); locals = []; items = ((Data (Var 0 sort.Int) (Var 2 sort.Val) (Var 4 sort.List)) ∷ (Data (Var 1 sort.Int) (Var 3 sort.Val) (Var 5 sort.List)) ∷ []) }); post = (record { opened = []; facts = ([]); locals = []; items = ((Data (Var 0 sort.Int) (Var 2 sort.Val) (Var 4 sort.List)) ∷ (Data (Var 1 sort.Int) (Var 3 sort.Val) (Var 5 sort.List)) ∷ []) }) }) (record { temps = (name_p ∷ []); body = (c.Then (c.Return None) c.End) }) (s.Then 1 (s.Have (Rel relation.Ne (Of2 binary.Add (Named name_s) (Number (pos 1))) (Of2 binary.Add (Named name_t) (Number (pos 1)))) ((record { lines = ((line.Comb (((pos 1), 0) ∷ ((pos 1), 1) ∷ [])) ∷ []) }) ∷ [])) s.NoBlock (s.Then 2 (s.Return ([]) ([]) ([])) s.NoBlock s.End)) ≡ Accepted
unfolding computing
edges_178 = refl

edges_179 : body_verdict (record { predicates = ([]); specs = ((record { is_void = true; name = name_f; params = (name_p ∷ []); vars = ((name_s, sort.Int) ∷ (name_t, sort.Int) ∷ (name_v, sort.Val) ∷ (name_w, sort.Val) ∷ (name_k, sort.List) ∷ (name_m, sort.List) ∷ []); pre = (record { opened = []; facts = ((Rel relation.Lt (Var 1 sort.Int) (Var 0 sort.Int)) ∷ []); locals = []; items = ((Data (Var 0 sort.Int) (Var 2 sort.Val) (Var 4 sort.List)) ∷ (Data (Var 1 sort.Int) (Var 3 sort.Val) (Var 5 sort.List)) ∷ []) }); post = (record { opened = []; facts = ([]); locals = []; items = ((Data (Var 0 sort.Int) (Var 2 sort.Val) (Var 4 sort.List)) ∷ (Data (Var 1 sort.Int) (Var 3 sort.Val) (Var 5 sort.List)) ∷ []) }) }) ∷ []) }) (record { is_void = true; name = name_f; params = (name_p ∷ []); vars = ((name_s, sort.Int) ∷ (name_t, sort.Int) ∷ (name_v, sort.Val) ∷ (name_w, sort.Val) ∷ (name_k, sort.List) ∷ (name_m, sort.List) ∷ []); pre = (record { opened = []; facts = ((Rel relation.Lt (Var 1 sort.Int) (Var 0 sort.Int)) ∷ []); locals = []; items = ((Data (Var 0 sort.Int) (Var 2 sort.Val) (Var 4 sort.List)) ∷ (Data (Var 1 sort.Int) (Var 3 sort.Val) (Var 5 sort.List)) ∷ []) }); post = (record { opened = []; facts = ([]); locals = []; items = ((Data (Var 0 sort.Int) (Var 2 sort.Val) (Var 4 sort.List)) ∷ (Data (Var 1 sort.Int) (Var 3 sort.Val) (Var 5 sort.List)) ∷ []) }) }) (record { temps = (name_p ∷ []); body = (c.Then (c.Return None) c.End) }) (s.Then 1 (s.Have (Rel relation.Ne (Named name_s) (Named name_t)) ((record { lines = ((line.Comb (((pos 1), 0) ∷ ((pos 1), 1) ∷ [])) ∷ []) }) ∷ [])) s.NoBlock (s.Then 2 (s.Return ([]) ([]) ([])) s.NoBlock s.End)) ≡ Accepted
unfolding computing
edges_179 = refl

edges_180 : body_verdict (record { predicates = ([]); specs = ((record { is_void = true; name = name_f; params = (name_p ∷ []); vars = ((name_s, sort.Int) ∷ (name_t, sort.Int) ∷ (name_v, sort.Val) ∷ (name_w, sort.Val) ∷ (name_k, sort.List) ∷ (name_m, sort.List) ∷ []); pre = (record { opened = []; facts = ((Rel relation.Lt (Var 1 sort.Int) (Var 0 sort.Int)) ∷ []); locals = []; items = ((Data (Var 0 sort.Int) (Var 2 sort.Val) (Var 4 sort.List)) ∷ (Data (Var 1 sort.Int) (Var 3 sort.Val) (Var 5 sort.List)) ∷ []) }); post = (record { opened = []; facts = ([]); locals = []; items = ((Data (Var 0 sort.Int) (Var 2 sort.Val) (Var 4 sort.List)) ∷ (Data (Var 1 sort.Int) (Var 3 sort.Val) (Var 5 sort.List)) ∷ []) }) }) ∷ []) }) (record { is_void = true; name = name_f; params = (name_p ∷ []); vars = ((name_s, sort.Int) ∷ (name_t, sort.Int) ∷ (name_v, sort.Val) ∷ (name_w, sort.Val) ∷ (name_k, sort.List) ∷ (name_m, sort.List) ∷ []); pre = (record { opened = []; facts = ((Rel relation.Lt (Var 1 sort.Int) (Var 0 sort.Int)) ∷ []); locals = []; items = ((Data (Var 0 sort.Int) (Var 2 sort.Val) (Var 4 sort.List)) ∷ (Data (Var 1 sort.Int) (Var 3 sort.Val) (Var 5 sort.List)) ∷ []) }); post = (record { opened = []; facts = ([]); locals = []; items = ((Data (Var 0 sort.Int) (Var 2 sort.Val) (Var 4 sort.List)) ∷ (Data (Var 1 sort.Int) (Var 3 sort.Val) (Var 5 sort.List)) ∷ []) }) }) (record { temps = (name_p ∷ []); body = (c.Then (c.Return None) c.End) }) (s.Then 1 (s.Have (Rel relation.Le (Of2 binary.Add (Named name_s) (Number (pos 1))) (Named name_t)) ((record { lines = ((line.Comb (((pos 1), 0) ∷ ((pos 1), 1) ∷ [])) ∷ []) }) ∷ [])) s.NoBlock (s.Then 2 (s.Return ([]) ([]) ([])) s.NoBlock s.End)) ≡ (RefusedAt 1 25 3)
unfolding computing
edges_180 = refl

edges_181 : body_verdict (record { predicates = ([]); specs = ((record { is_void = true; name = name_f; params = (name_p ∷ []); vars = ((name_s, sort.Int) ∷ (name_t, sort.Int) ∷ (name_v, sort.Val) ∷ (name_w, sort.Val) ∷ (name_k, sort.List) ∷ (name_m, sort.List) ∷ []); pre = (record { opened = []; facts = ((Rel relation.Le (Number (pos 0)) (Var 0 sort.Int)) ∷ (Each (Var 4 sort.List) (Number (pos 0)) (Number (pos 9))) ∷ (Rel relation.Le (Number (pos 1)) (Of unary.Len (Var 4 sort.List))) ∷ (IsPtr (Var 2 sort.Val)) ∷ (IsInt (Var 2 sort.Val)) ∷ (Rel relation.Le (Number (pos 0)) (Of unary.Len (Var 4 sort.List))) ∷ (Rel relation.Ne (Var 0 sort.Int) (Var 1 sort.Int)) ∷ (Rel relation.Le (Var 0 sort.Int) (Var 1 sort.Int)) ∷ []); locals = []; items = ((Data (Var 0 sort.Int) (Var 2 sort.Val) (Var 4 sort.List)) ∷ (Data (Var 1 sort.Int) (Var 3 sort.Val) (Var 5 sort.List)) ∷ []) }); post = (record { opened = []; facts = ([]); locals = []; items = ((Data (Var 0 sort.Int) (Var 2 sort.Val) (Var 4 sort.List)) ∷ (Data (Var 1 sort.Int) (Var 3 sort.Val) (Var 5 sort.List)) ∷ []) }) }) ∷ []) }) (record { is_void = true; name = name_f; params = (name_p ∷ []); vars = ((name_s, sort.Int) ∷ (name_t, sort.Int) ∷ (name_v, sort.Val) ∷ (name_w, sort.Val) ∷ (name_k, sort.List) ∷ (name_m, sort.List) ∷ []); pre = (record { opened = []; facts = ((Rel relation.Le (Number (pos 0)) (Var 0 sort.Int)) ∷ (Each (Var 4 sort.List) (Number (pos 0)) (Number (pos 9))) ∷ (Rel relation.Le (Number (pos 1)) (Of unary.Len (Var 4 sort.List))) ∷ (IsPtr (Var 2 sort.Val)) ∷ (IsInt (Var 2 sort.Val)) ∷ (Rel relation.Le (Number (pos 0)) (Of unary.Len (Var 4 sort.List))) ∷ (Rel relation.Ne (Var 0 sort.Int) (Var 1 sort.Int)) ∷ (Rel relation.Le (Var 0 sort.Int) (Var 1 sort.Int)) ∷ []); locals = []; items = ((Data (Var 0 sort.Int) (Var 2 sort.Val) (Var 4 sort.List)) ∷ (Data (Var 1 sort.Int) (Var 3 sort.Val) (Var 5 sort.List)) ∷ []) }); post = (record { opened = []; facts = ([]); locals = []; items = ((Data (Var 0 sort.Int) (Var 2 sort.Val) (Var 4 sort.List)) ∷ (Data (Var 1 sort.Int) (Var 3 sort.Val) (Var 5 sort.List)) ∷ []) }) }) (record { temps = (name_p ∷ []); body = (c.Then (c.Return None) c.End) }) (s.Then 1 (s.Law name_quot_lo ((Named name_s) ∷ (Number (pos 2)) ∷ []) ([])) s.NoBlock (s.Then 2 (s.Return ([]) ([]) ([])) s.NoBlock s.End)) ≡ Accepted
unfolding computing
edges_181 = refl

edges_182 : body_verdict (record { predicates = ([]); specs = ((record { is_void = true; name = name_f; params = (name_p ∷ []); vars = ((name_s, sort.Int) ∷ (name_t, sort.Int) ∷ (name_v, sort.Val) ∷ (name_w, sort.Val) ∷ (name_k, sort.List) ∷ (name_m, sort.List) ∷ []); pre = (record { opened = []; facts = ((Rel relation.Le (Number (pos 0)) (Var 0 sort.Int)) ∷ (Each (Var 4 sort.List) (Number (pos 0)) (Number (pos 9))) ∷ (Rel relation.Le (Number (pos 1)) (Of unary.Len (Var 4 sort.List))) ∷ (IsPtr (Var 2 sort.Val)) ∷ (IsInt (Var 2 sort.Val)) ∷ (Rel relation.Le (Number (pos 0)) (Of unary.Len (Var 4 sort.List))) ∷ (Rel relation.Ne (Var 0 sort.Int) (Var 1 sort.Int)) ∷ (Rel relation.Le (Var 0 sort.Int) (Var 1 sort.Int)) ∷ []); locals = []; items = ((Data (Var 0 sort.Int) (Var 2 sort.Val) (Var 4 sort.List)) ∷ (Data (Var 1 sort.Int) (Var 3 sort.Val) (Var 5 sort.List)) ∷ []) }); post = (record { opened = []; facts = ([]); locals = []; items = ((Data (Var 0 sort.Int) (Var 2 sort.Val) (Var 4 sort.List)) ∷ (Data (Var 1 sort.Int) (Var 3 sort.Val) (Var 5 sort.List)) ∷ []) }) }) ∷ []) }) (record { is_void = true; name = name_f; params = (name_p ∷ []); vars = ((name_s, sort.Int) ∷ (name_t, sort.Int) ∷ (name_v, sort.Val) ∷ (name_w, sort.Val) ∷ (name_k, sort.List) ∷ (name_m, sort.List) ∷ []); pre = (record { opened = []; facts = ((Rel relation.Le (Number (pos 0)) (Var 0 sort.Int)) ∷ (Each (Var 4 sort.List) (Number (pos 0)) (Number (pos 9))) ∷ (Rel relation.Le (Number (pos 1)) (Of unary.Len (Var 4 sort.List))) ∷ (IsPtr (Var 2 sort.Val)) ∷ (IsInt (Var 2 sort.Val)) ∷ (Rel relation.Le (Number (pos 0)) (Of unary.Len (Var 4 sort.List))) ∷ (Rel relation.Ne (Var 0 sort.Int) (Var 1 sort.Int)) ∷ (Rel relation.Le (Var 0 sort.Int) (Var 1 sort.Int)) ∷ []); locals = []; items = ((Data (Var 0 sort.Int) (Var 2 sort.Val) (Var 4 sort.List)) ∷ (Data (Var 1 sort.Int) (Var 3 sort.Val) (Var 5 sort.List)) ∷ []) }); post = (record { opened = []; facts = ([]); locals = []; items = ((Data (Var 0 sort.Int) (Var 2 sort.Val) (Var 4 sort.List)) ∷ (Data (Var 1 sort.Int) (Var 3 sort.Val) (Var 5 sort.List)) ∷ []) }) }) (record { temps = (name_p ∷ []); body = (c.Then (c.Return None) c.End) }) (s.Then 1 (s.Law name_quot_hi ((Named name_s) ∷ (Number (pos 2)) ∷ []) ([])) s.NoBlock (s.Then 2 (s.Return ([]) ([]) ([])) s.NoBlock s.End)) ≡ Accepted
unfolding computing
edges_182 = refl

edges_183 : body_verdict (record { predicates = ([]); specs = ((record { is_void = true; name = name_f; params = (name_p ∷ []); vars = ((name_s, sort.Int) ∷ (name_t, sort.Int) ∷ (name_v, sort.Val) ∷ (name_w, sort.Val) ∷ (name_k, sort.List) ∷ (name_m, sort.List) ∷ []); pre = (record { opened = []; facts = ((Rel relation.Le (Number (pos 0)) (Var 0 sort.Int)) ∷ (Each (Var 4 sort.List) (Number (pos 0)) (Number (pos 9))) ∷ (Rel relation.Le (Number (pos 1)) (Of unary.Len (Var 4 sort.List))) ∷ (IsPtr (Var 2 sort.Val)) ∷ (IsInt (Var 2 sort.Val)) ∷ (Rel relation.Le (Number (pos 0)) (Of unary.Len (Var 4 sort.List))) ∷ (Rel relation.Ne (Var 0 sort.Int) (Var 1 sort.Int)) ∷ (Rel relation.Le (Var 0 sort.Int) (Var 1 sort.Int)) ∷ []); locals = []; items = ((Data (Var 0 sort.Int) (Var 2 sort.Val) (Var 4 sort.List)) ∷ (Data (Var 1 sort.Int) (Var 3 sort.Val) (Var 5 sort.List)) ∷ []) }); post = (record { opened = []; facts = ([]); locals = []; items = ((Data (Var 0 sort.Int) (Var 2 sort.Val) (Var 4 sort.List)) ∷ (Data (Var 1 sort.Int) (Var 3 sort.Val) (Var 5 sort.List)) ∷ []) }) }) ∷ []) }) (record { is_void = true; name = name_f; params = (name_p ∷ []); vars = ((name_s, sort.Int) ∷ (name_t, sort.Int) ∷ (name_v, sort.Val) ∷ (name_w, sort.Val) ∷ (name_k, sort.List) ∷ (name_m, sort.List) ∷ []); pre = (record { opened = []; facts = ((Rel relation.Le (Number (pos 0)) (Var 0 sort.Int)) ∷ (Each (Var 4 sort.List) (Number (pos 0)) (Number (pos 9))) ∷ (Rel relation.Le (Number (pos 1)) (Of unary.Len (Var 4 sort.List))) ∷ (IsPtr (Var 2 sort.Val)) ∷ (IsInt (Var 2 sort.Val)) ∷ (Rel relation.Le (Number (pos 0)) (Of unary.Len (Var 4 sort.List))) ∷ (Rel relation.Ne (Var 0 sort.Int) (Var 1 sort.Int)) ∷ (Rel relation.Le (Var 0 sort.Int) (Var 1 sort.Int)) ∷ []); locals = []; items = ((Data (Var 0 sort.Int) (Var 2 sort.Val) (Var 4 sort.List)) ∷ (Data (Var 1 sort.Int) (Var 3 sort.Val) (Var 5 sort.List)) ∷ []) }); post = (record { opened = []; facts = ([]); locals = []; items = ((Data (Var 0 sort.Int) (Var 2 sort.Val) (Var 4 sort.List)) ∷ (Data (Var 1 sort.Int) (Var 3 sort.Val) (Var 5 sort.List)) ∷ []) }) }) (record { temps = (name_p ∷ []); body = (c.Then (c.Return None) c.End) }) (s.Then 1 (s.Law name_rem_eq ((Named name_s) ∷ (Number (pos 2)) ∷ []) ([])) s.NoBlock (s.Then 2 (s.Return ([]) ([]) ([])) s.NoBlock s.End)) ≡ Accepted
unfolding computing
edges_183 = refl

edges_184 : body_verdict (record { predicates = ([]); specs = ((record { is_void = true; name = name_f; params = (name_p ∷ []); vars = ((name_s, sort.Int) ∷ (name_t, sort.Int) ∷ (name_v, sort.Val) ∷ (name_w, sort.Val) ∷ (name_k, sort.List) ∷ (name_m, sort.List) ∷ []); pre = (record { opened = []; facts = ((Rel relation.Le (Number (pos 0)) (Var 0 sort.Int)) ∷ (Each (Var 4 sort.List) (Number (pos 0)) (Number (pos 9))) ∷ (Rel relation.Le (Number (pos 1)) (Of unary.Len (Var 4 sort.List))) ∷ (IsPtr (Var 2 sort.Val)) ∷ (IsInt (Var 2 sort.Val)) ∷ (Rel relation.Le (Number (pos 0)) (Of unary.Len (Var 4 sort.List))) ∷ (Rel relation.Ne (Var 0 sort.Int) (Var 1 sort.Int)) ∷ (Rel relation.Le (Var 0 sort.Int) (Var 1 sort.Int)) ∷ []); locals = []; items = ((Data (Var 0 sort.Int) (Var 2 sort.Val) (Var 4 sort.List)) ∷ (Data (Var 1 sort.Int) (Var 3 sort.Val) (Var 5 sort.List)) ∷ []) }); post = (record { opened = []; facts = ([]); locals = []; items = ((Data (Var 0 sort.Int) (Var 2 sort.Val) (Var 4 sort.List)) ∷ (Data (Var 1 sort.Int) (Var 3 sort.Val) (Var 5 sort.List)) ∷ []) }) }) ∷ []) }) (record { is_void = true; name = name_f; params = (name_p ∷ []); vars = ((name_s, sort.Int) ∷ (name_t, sort.Int) ∷ (name_v, sort.Val) ∷ (name_w, sort.Val) ∷ (name_k, sort.List) ∷ (name_m, sort.List) ∷ []); pre = (record { opened = []; facts = ((Rel relation.Le (Number (pos 0)) (Var 0 sort.Int)) ∷ (Each (Var 4 sort.List) (Number (pos 0)) (Number (pos 9))) ∷ (Rel relation.Le (Number (pos 1)) (Of unary.Len (Var 4 sort.List))) ∷ (IsPtr (Var 2 sort.Val)) ∷ (IsInt (Var 2 sort.Val)) ∷ (Rel relation.Le (Number (pos 0)) (Of unary.Len (Var 4 sort.List))) ∷ (Rel relation.Ne (Var 0 sort.Int) (Var 1 sort.Int)) ∷ (Rel relation.Le (Var 0 sort.Int) (Var 1 sort.Int)) ∷ []); locals = []; items = ((Data (Var 0 sort.Int) (Var 2 sort.Val) (Var 4 sort.List)) ∷ (Data (Var 1 sort.Int) (Var 3 sort.Val) (Var 5 sort.List)) ∷ []) }); post = (record { opened = []; facts = ([]); locals = []; items = ((Data (Var 0 sort.Int) (Var 2 sort.Val) (Var 4 sort.List)) ∷ (Data (Var 1 sort.Int) (Var 3 sort.Val) (Var 5 sort.List)) ∷ []) }) }) (record { temps = (name_p ∷ []); body = (c.Then (c.Return None) c.End) }) (s.Then 1 (s.Law name_quot_lo ((Named name_s) ∷ (Number (pos 0)) ∷ []) ([])) s.NoBlock (s.Then 2 (s.Return ([]) ([]) ([])) s.NoBlock s.End)) ≡ (RefusedAt 1 26 1)
unfolding computing
edges_184 = refl

edges_185 : body_verdict (record { predicates = ([]); specs = ((record { is_void = true; name = name_f; params = (name_p ∷ []); vars = ((name_s, sort.Int) ∷ (name_t, sort.Int) ∷ (name_v, sort.Val) ∷ (name_w, sort.Val) ∷ (name_k, sort.List) ∷ (name_m, sort.List) ∷ []); pre = (record { opened = []; facts = ((Rel relation.Le (Number (pos 0)) (Var 0 sort.Int)) ∷ (Each (Var 4 sort.List) (Number (pos 0)) (Number (pos 9))) ∷ (Rel relation.Le (Number (pos 1)) (Of unary.Len (Var 4 sort.List))) ∷ (IsPtr (Var 2 sort.Val)) ∷ (IsInt (Var 2 sort.Val)) ∷ (Rel relation.Le (Number (pos 0)) (Of unary.Len (Var 4 sort.List))) ∷ (Rel relation.Ne (Var 0 sort.Int) (Var 1 sort.Int)) ∷ (Rel relation.Le (Var 0 sort.Int) (Var 1 sort.Int)) ∷ []); locals = []; items = ((Data (Var 0 sort.Int) (Var 2 sort.Val) (Var 4 sort.List)) ∷ (Data (Var 1 sort.Int) (Var 3 sort.Val) (Var 5 sort.List)) ∷ []) }); post = (record { opened = []; facts = ([]); locals = []; items = ((Data (Var 0 sort.Int) (Var 2 sort.Val) (Var 4 sort.List)) ∷ (Data (Var 1 sort.Int) (Var 3 sort.Val) (Var 5 sort.List)) ∷ []) }) }) ∷ []) }) (record { is_void = true; name = name_f; params = (name_p ∷ []); vars = ((name_s, sort.Int) ∷ (name_t, sort.Int) ∷ (name_v, sort.Val) ∷ (name_w, sort.Val) ∷ (name_k, sort.List) ∷ (name_m, sort.List) ∷ []); pre = (record { opened = []; facts = ((Rel relation.Le (Number (pos 0)) (Var 0 sort.Int)) ∷ (Each (Var 4 sort.List) (Number (pos 0)) (Number (pos 9))) ∷ (Rel relation.Le (Number (pos 1)) (Of unary.Len (Var 4 sort.List))) ∷ (IsPtr (Var 2 sort.Val)) ∷ (IsInt (Var 2 sort.Val)) ∷ (Rel relation.Le (Number (pos 0)) (Of unary.Len (Var 4 sort.List))) ∷ (Rel relation.Ne (Var 0 sort.Int) (Var 1 sort.Int)) ∷ (Rel relation.Le (Var 0 sort.Int) (Var 1 sort.Int)) ∷ []); locals = []; items = ((Data (Var 0 sort.Int) (Var 2 sort.Val) (Var 4 sort.List)) ∷ (Data (Var 1 sort.Int) (Var 3 sort.Val) (Var 5 sort.List)) ∷ []) }); post = (record { opened = []; facts = ([]); locals = []; items = ((Data (Var 0 sort.Int) (Var 2 sort.Val) (Var 4 sort.List)) ∷ (Data (Var 1 sort.Int) (Var 3 sort.Val) (Var 5 sort.List)) ∷ []) }) }) (record { temps = (name_p ∷ []); body = (c.Then (c.Return None) c.End) }) (s.Then 1 (s.Law name_quot_hi ((Named name_s) ∷ (Named name_t) ∷ []) ([])) s.NoBlock (s.Then 2 (s.Return ([]) ([]) ([])) s.NoBlock s.End)) ≡ (RefusedAt 1 26 1)
unfolding computing
edges_185 = refl

edges_186 : body_verdict (record { predicates = ([]); specs = ((record { is_void = true; name = name_f; params = (name_p ∷ []); vars = ((name_s, sort.Int) ∷ (name_t, sort.Int) ∷ (name_v, sort.Val) ∷ (name_w, sort.Val) ∷ (name_k, sort.List) ∷ (name_m, sort.List) ∷ []); pre = (record { opened = []; facts = ((Rel relation.Le (Number (pos 0)) (Var 0 sort.Int)) ∷ (Each (Var 4 sort.List) (Number (pos 0)) (Number (pos 9))) ∷ (Rel relation.Le (Number (pos 1)) (Of unary.Len (Var 4 sort.List))) ∷ (IsPtr (Var 2 sort.Val)) ∷ (IsInt (Var 2 sort.Val)) ∷ (Rel relation.Le (Number (pos 0)) (Of unary.Len (Var 4 sort.List))) ∷ (Rel relation.Ne (Var 0 sort.Int) (Var 1 sort.Int)) ∷ (Rel relation.Le (Var 0 sort.Int) (Var 1 sort.Int)) ∷ []); locals = []; items = ((Data (Var 0 sort.Int) (Var 2 sort.Val) (Var 4 sort.List)) ∷ (Data (Var 1 sort.Int) (Var 3 sort.Val) (Var 5 sort.List)) ∷ []) }); post = (record { opened = []; facts = ([]); locals = []; items = ((Data (Var 0 sort.Int) (Var 2 sort.Val) (Var 4 sort.List)) ∷ (Data (Var 1 sort.Int) (Var 3 sort.Val) (Var 5 sort.List)) ∷ []) }) }) ∷ []) }) (record { is_void = true; name = name_f; params = (name_p ∷ []); vars = ((name_s, sort.Int) ∷ (name_t, sort.Int) ∷ (name_v, sort.Val) ∷ (name_w, sort.Val) ∷ (name_k, sort.List) ∷ (name_m, sort.List) ∷ []); pre = (record { opened = []; facts = ((Rel relation.Le (Number (pos 0)) (Var 0 sort.Int)) ∷ (Each (Var 4 sort.List) (Number (pos 0)) (Number (pos 9))) ∷ (Rel relation.Le (Number (pos 1)) (Of unary.Len (Var 4 sort.List))) ∷ (IsPtr (Var 2 sort.Val)) ∷ (IsInt (Var 2 sort.Val)) ∷ (Rel relation.Le (Number (pos 0)) (Of unary.Len (Var 4 sort.List))) ∷ (Rel relation.Ne (Var 0 sort.Int) (Var 1 sort.Int)) ∷ (Rel relation.Le (Var 0 sort.Int) (Var 1 sort.Int)) ∷ []); locals = []; items = ((Data (Var 0 sort.Int) (Var 2 sort.Val) (Var 4 sort.List)) ∷ (Data (Var 1 sort.Int) (Var 3 sort.Val) (Var 5 sort.List)) ∷ []) }); post = (record { opened = []; facts = ([]); locals = []; items = ((Data (Var 0 sort.Int) (Var 2 sort.Val) (Var 4 sort.List)) ∷ (Data (Var 1 sort.Int) (Var 3 sort.Val) (Var 5 sort.List)) ∷ []) }) }) (record { temps = (name_p ∷ []); body = (c.Then (c.Return None) c.End) }) (s.Then 1 (s.Law name_quot_lo ((Named name_s) ∷ (Of2 binary.Add (Number (pos 1)) (Number (pos 1))) ∷ []) ([])) s.NoBlock (s.Then 2 (s.Return ([]) ([]) ([])) s.NoBlock s.End)) ≡ Accepted
unfolding computing
edges_186 = refl

edges_187 : body_verdict (record { predicates = ([]); specs = ((record { is_void = true; name = name_f; params = (name_p ∷ []); vars = ((name_s, sort.Int) ∷ (name_t, sort.Int) ∷ (name_v, sort.Val) ∷ (name_w, sort.Val) ∷ (name_k, sort.List) ∷ (name_m, sort.List) ∷ []); pre = (record { opened = []; facts = ((Rel relation.Le (Number (pos 0)) (Var 0 sort.Int)) ∷ (Each (Var 4 sort.List) (Number (pos 0)) (Number (pos 9))) ∷ (Rel relation.Le (Number (pos 1)) (Of unary.Len (Var 4 sort.List))) ∷ (IsPtr (Var 2 sort.Val)) ∷ (IsInt (Var 2 sort.Val)) ∷ (Rel relation.Le (Number (pos 0)) (Of unary.Len (Var 4 sort.List))) ∷ (Rel relation.Ne (Var 0 sort.Int) (Var 1 sort.Int)) ∷ (Rel relation.Le (Var 0 sort.Int) (Var 1 sort.Int)) ∷ []); locals = []; items = ((Data (Var 0 sort.Int) (Var 2 sort.Val) (Var 4 sort.List)) ∷ (Data (Var 1 sort.Int) (Var 3 sort.Val) (Var 5 sort.List)) ∷ []) }); post = (record { opened = []; facts = ([]); locals = []; items = ((Data (Var 0 sort.Int) (Var 2 sort.Val) (Var 4 sort.List)) ∷ (Data (Var 1 sort.Int) (Var 3 sort.Val) (Var 5 sort.List)) ∷ []) }) }) ∷ []) }) (record { is_void = true; name = name_f; params = (name_p ∷ []); vars = ((name_s, sort.Int) ∷ (name_t, sort.Int) ∷ (name_v, sort.Val) ∷ (name_w, sort.Val) ∷ (name_k, sort.List) ∷ (name_m, sort.List) ∷ []); pre = (record { opened = []; facts = ((Rel relation.Le (Number (pos 0)) (Var 0 sort.Int)) ∷ (Each (Var 4 sort.List) (Number (pos 0)) (Number (pos 9))) ∷ (Rel relation.Le (Number (pos 1)) (Of unary.Len (Var 4 sort.List))) ∷ (IsPtr (Var 2 sort.Val)) ∷ (IsInt (Var 2 sort.Val)) ∷ (Rel relation.Le (Number (pos 0)) (Of unary.Len (Var 4 sort.List))) ∷ (Rel relation.Ne (Var 0 sort.Int) (Var 1 sort.Int)) ∷ (Rel relation.Le (Var 0 sort.Int) (Var 1 sort.Int)) ∷ []); locals = []; items = ((Data (Var 0 sort.Int) (Var 2 sort.Val) (Var 4 sort.List)) ∷ (Data (Var 1 sort.Int) (Var 3 sort.Val) (Var 5 sort.List)) ∷ []) }); post = (record { opened = []; facts = ([]); locals = []; items = ((Data (Var 0 sort.Int) (Var 2 sort.Val) (Var 4 sort.List)) ∷ (Data (Var 1 sort.Int) (Var 3 sort.Val) (Var 5 sort.List)) ∷ []) }) }) (record { temps = (name_p ∷ []); body = (c.Then (c.Return None) c.End) }) (s.Then 1 (s.Law name_sum_lo ((Named name_k) ∷ (Number (pos 0)) ∷ (Number (pos 9)) ∷ []) ([])) s.NoBlock (s.Then 2 (s.Return ([]) ([]) ([])) s.NoBlock s.End)) ≡ Accepted
unfolding computing
edges_187 = refl

edges_188 : body_verdict (record { predicates = ([]); specs = ((record { is_void = true; name = name_f; params = (name_p ∷ []); vars = ((name_s, sort.Int) ∷ (name_t, sort.Int) ∷ (name_v, sort.Val) ∷ (name_w, sort.Val) ∷ (name_k, sort.List) ∷ (name_m, sort.List) ∷ []); pre = (record { opened = []; facts = ((Rel relation.Le (Number (pos 0)) (Var 0 sort.Int)) ∷ (Each (Var 4 sort.List) (Number (pos 0)) (Number (pos 9))) ∷ (Rel relation.Le (Number (pos 1)) (Of unary.Len (Var 4 sort.List))) ∷ (IsPtr (Var 2 sort.Val)) ∷ (IsInt (Var 2 sort.Val)) ∷ (Rel relation.Le (Number (pos 0)) (Of unary.Len (Var 4 sort.List))) ∷ (Rel relation.Ne (Var 0 sort.Int) (Var 1 sort.Int)) ∷ (Rel relation.Le (Var 0 sort.Int) (Var 1 sort.Int)) ∷ []); locals = []; items = ((Data (Var 0 sort.Int) (Var 2 sort.Val) (Var 4 sort.List)) ∷ (Data (Var 1 sort.Int) (Var 3 sort.Val) (Var 5 sort.List)) ∷ []) }); post = (record { opened = []; facts = ([]); locals = []; items = ((Data (Var 0 sort.Int) (Var 2 sort.Val) (Var 4 sort.List)) ∷ (Data (Var 1 sort.Int) (Var 3 sort.Val) (Var 5 sort.List)) ∷ []) }) }) ∷ []) }) (record { is_void = true; name = name_f; params = (name_p ∷ []); vars = ((name_s, sort.Int) ∷ (name_t, sort.Int) ∷ (name_v, sort.Val) ∷ (name_w, sort.Val) ∷ (name_k, sort.List) ∷ (name_m, sort.List) ∷ []); pre = (record { opened = []; facts = ((Rel relation.Le (Number (pos 0)) (Var 0 sort.Int)) ∷ (Each (Var 4 sort.List) (Number (pos 0)) (Number (pos 9))) ∷ (Rel relation.Le (Number (pos 1)) (Of unary.Len (Var 4 sort.List))) ∷ (IsPtr (Var 2 sort.Val)) ∷ (IsInt (Var 2 sort.Val)) ∷ (Rel relation.Le (Number (pos 0)) (Of unary.Len (Var 4 sort.List))) ∷ (Rel relation.Ne (Var 0 sort.Int) (Var 1 sort.Int)) ∷ (Rel relation.Le (Var 0 sort.Int) (Var 1 sort.Int)) ∷ []); locals = []; items = ((Data (Var 0 sort.Int) (Var 2 sort.Val) (Var 4 sort.List)) ∷ (Data (Var 1 sort.Int) (Var 3 sort.Val) (Var 5 sort.List)) ∷ []) }); post = (record { opened = []; facts = ([]); locals = []; items = ((Data (Var 0 sort.Int) (Var 2 sort.Val) (Var 4 sort.List)) ∷ (Data (Var 1 sort.Int) (Var 3 sort.Val) (Var 5 sort.List)) ∷ []) }) }) (record { temps = (name_p ∷ []); body = (c.Then (c.Return None) c.End) }) (s.Then 1 (s.Law name_sum_hi ((Named name_k) ∷ (Number (pos 0)) ∷ (Number (pos 9)) ∷ []) ([])) s.NoBlock (s.Then 2 (s.Return ([]) ([]) ([])) s.NoBlock s.End)) ≡ Accepted
unfolding computing
edges_188 = refl

edges_189 : body_verdict (record { predicates = ([]); specs = ((record { is_void = true; name = name_f; params = (name_p ∷ []); vars = ((name_s, sort.Int) ∷ (name_t, sort.Int) ∷ (name_v, sort.Val) ∷ (name_w, sort.Val) ∷ (name_k, sort.List) ∷ (name_m, sort.List) ∷ []); pre = (record { opened = []; facts = ((Rel relation.Le (Number (pos 0)) (Var 0 sort.Int)) ∷ (Each (Var 4 sort.List) (Number (pos 0)) (Number (pos 9))) ∷ (Rel relation.Le (Number (pos 1)) (Of unary.Len (Var 4 sort.List))) ∷ (IsPtr (Var 2 sort.Val)) ∷ (IsInt (Var 2 sort.Val)) ∷ (Rel relation.Le (Number (pos 0)) (Of unary.Len (Var 4 sort.List))) ∷ (Rel relation.Ne (Var 0 sort.Int) (Var 1 sort.Int)) ∷ (Rel relation.Le (Var 0 sort.Int) (Var 1 sort.Int)) ∷ []); locals = []; items = ((Data (Var 0 sort.Int) (Var 2 sort.Val) (Var 4 sort.List)) ∷ (Data (Var 1 sort.Int) (Var 3 sort.Val) (Var 5 sort.List)) ∷ []) }); post = (record { opened = []; facts = ([]); locals = []; items = ((Data (Var 0 sort.Int) (Var 2 sort.Val) (Var 4 sort.List)) ∷ (Data (Var 1 sort.Int) (Var 3 sort.Val) (Var 5 sort.List)) ∷ []) }) }) ∷ []) }) (record { is_void = true; name = name_f; params = (name_p ∷ []); vars = ((name_s, sort.Int) ∷ (name_t, sort.Int) ∷ (name_v, sort.Val) ∷ (name_w, sort.Val) ∷ (name_k, sort.List) ∷ (name_m, sort.List) ∷ []); pre = (record { opened = []; facts = ((Rel relation.Le (Number (pos 0)) (Var 0 sort.Int)) ∷ (Each (Var 4 sort.List) (Number (pos 0)) (Number (pos 9))) ∷ (Rel relation.Le (Number (pos 1)) (Of unary.Len (Var 4 sort.List))) ∷ (IsPtr (Var 2 sort.Val)) ∷ (IsInt (Var 2 sort.Val)) ∷ (Rel relation.Le (Number (pos 0)) (Of unary.Len (Var 4 sort.List))) ∷ (Rel relation.Ne (Var 0 sort.Int) (Var 1 sort.Int)) ∷ (Rel relation.Le (Var 0 sort.Int) (Var 1 sort.Int)) ∷ []); locals = []; items = ((Data (Var 0 sort.Int) (Var 2 sort.Val) (Var 4 sort.List)) ∷ (Data (Var 1 sort.Int) (Var 3 sort.Val) (Var 5 sort.List)) ∷ []) }); post = (record { opened = []; facts = ([]); locals = []; items = ((Data (Var 0 sort.Int) (Var 2 sort.Val) (Var 4 sort.List)) ∷ (Data (Var 1 sort.Int) (Var 3 sort.Val) (Var 5 sort.List)) ∷ []) }) }) (record { temps = (name_p ∷ []); body = (c.Then (c.Return None) c.End) }) (s.Then 1 (s.Law name_sum_lo ((Named name_k) ∷ (Named name_s) ∷ (Number (pos 9)) ∷ []) ([])) s.NoBlock (s.Then 2 (s.Return ([]) ([]) ([])) s.NoBlock s.End)) ≡ (RefusedAt 1 26 1)
unfolding computing
edges_189 = refl

edges_190 : body_verdict (record { predicates = ([]); specs = ((record { is_void = true; name = name_f; params = (name_p ∷ []); vars = ((name_s, sort.Int) ∷ (name_t, sort.Int) ∷ (name_v, sort.Val) ∷ (name_w, sort.Val) ∷ (name_k, sort.List) ∷ (name_m, sort.List) ∷ []); pre = (record { opened = []; facts = ((Rel relation.Le (Number (pos 0)) (Var 0 sort.Int)) ∷ (Each (Var 4 sort.List) (Number (pos 0)) (Number (pos 9))) ∷ (Rel relation.Le (Number (pos 1)) (Of unary.Len (Var 4 sort.List))) ∷ (IsPtr (Var 2 sort.Val)) ∷ (IsInt (Var 2 sort.Val)) ∷ (Rel relation.Le (Number (pos 0)) (Of unary.Len (Var 4 sort.List))) ∷ (Rel relation.Ne (Var 0 sort.Int) (Var 1 sort.Int)) ∷ (Rel relation.Le (Var 0 sort.Int) (Var 1 sort.Int)) ∷ []); locals = []; items = ((Data (Var 0 sort.Int) (Var 2 sort.Val) (Var 4 sort.List)) ∷ (Data (Var 1 sort.Int) (Var 3 sort.Val) (Var 5 sort.List)) ∷ []) }); post = (record { opened = []; facts = ([]); locals = []; items = ((Data (Var 0 sort.Int) (Var 2 sort.Val) (Var 4 sort.List)) ∷ (Data (Var 1 sort.Int) (Var 3 sort.Val) (Var 5 sort.List)) ∷ []) }) }) ∷ []) }) (record { is_void = true; name = name_f; params = (name_p ∷ []); vars = ((name_s, sort.Int) ∷ (name_t, sort.Int) ∷ (name_v, sort.Val) ∷ (name_w, sort.Val) ∷ (name_k, sort.List) ∷ (name_m, sort.List) ∷ []); pre = (record { opened = []; facts = ((Rel relation.Le (Number (pos 0)) (Var 0 sort.Int)) ∷ (Each (Var 4 sort.List) (Number (pos 0)) (Number (pos 9))) ∷ (Rel relation.Le (Number (pos 1)) (Of unary.Len (Var 4 sort.List))) ∷ (IsPtr (Var 2 sort.Val)) ∷ (IsInt (Var 2 sort.Val)) ∷ (Rel relation.Le (Number (pos 0)) (Of unary.Len (Var 4 sort.List))) ∷ (Rel relation.Ne (Var 0 sort.Int) (Var 1 sort.Int)) ∷ (Rel relation.Le (Var 0 sort.Int) (Var 1 sort.Int)) ∷ []); locals = []; items = ((Data (Var 0 sort.Int) (Var 2 sort.Val) (Var 4 sort.List)) ∷ (Data (Var 1 sort.Int) (Var 3 sort.Val) (Var 5 sort.List)) ∷ []) }); post = (record { opened = []; facts = ([]); locals = []; items = ((Data (Var 0 sort.Int) (Var 2 sort.Val) (Var 4 sort.List)) ∷ (Data (Var 1 sort.Int) (Var 3 sort.Val) (Var 5 sort.List)) ∷ []) }) }) (record { temps = (name_p ∷ []); body = (c.Then (c.Return None) c.End) }) (s.Then 1 (s.Law name_each_sub ((Named name_k) ∷ (Number (pos 0)) ∷ (Number (pos 9)) ∷ (Named name_s) ∷ (Named name_t) ∷ []) ([])) s.NoBlock (s.Then 2 (s.Return ([]) ([]) ([])) s.NoBlock s.End)) ≡ Accepted
unfolding computing
edges_190 = refl

edges_191 : body_verdict (record { predicates = ([]); specs = ((record { is_void = true; name = name_f; params = (name_p ∷ []); vars = ((name_s, sort.Int) ∷ (name_t, sort.Int) ∷ (name_v, sort.Val) ∷ (name_w, sort.Val) ∷ (name_k, sort.List) ∷ (name_m, sort.List) ∷ []); pre = (record { opened = []; facts = ((Rel relation.Le (Number (pos 0)) (Var 0 sort.Int)) ∷ (Each (Var 4 sort.List) (Number (pos 0)) (Number (pos 9))) ∷ (Rel relation.Le (Number (pos 1)) (Of unary.Len (Var 4 sort.List))) ∷ (IsPtr (Var 2 sort.Val)) ∷ (IsInt (Var 2 sort.Val)) ∷ (Rel relation.Le (Number (pos 0)) (Of unary.Len (Var 4 sort.List))) ∷ (Rel relation.Ne (Var 0 sort.Int) (Var 1 sort.Int)) ∷ (Rel relation.Le (Var 0 sort.Int) (Var 1 sort.Int)) ∷ []); locals = []; items = ((Data (Var 0 sort.Int) (Var 2 sort.Val) (Var 4 sort.List)) ∷ (Data (Var 1 sort.Int) (Var 3 sort.Val) (Var 5 sort.List)) ∷ []) }); post = (record { opened = []; facts = ([]); locals = []; items = ((Data (Var 0 sort.Int) (Var 2 sort.Val) (Var 4 sort.List)) ∷ (Data (Var 1 sort.Int) (Var 3 sort.Val) (Var 5 sort.List)) ∷ []) }) }) ∷ []) }) (record { is_void = true; name = name_f; params = (name_p ∷ []); vars = ((name_s, sort.Int) ∷ (name_t, sort.Int) ∷ (name_v, sort.Val) ∷ (name_w, sort.Val) ∷ (name_k, sort.List) ∷ (name_m, sort.List) ∷ []); pre = (record { opened = []; facts = ((Rel relation.Le (Number (pos 0)) (Var 0 sort.Int)) ∷ (Each (Var 4 sort.List) (Number (pos 0)) (Number (pos 9))) ∷ (Rel relation.Le (Number (pos 1)) (Of unary.Len (Var 4 sort.List))) ∷ (IsPtr (Var 2 sort.Val)) ∷ (IsInt (Var 2 sort.Val)) ∷ (Rel relation.Le (Number (pos 0)) (Of unary.Len (Var 4 sort.List))) ∷ (Rel relation.Ne (Var 0 sort.Int) (Var 1 sort.Int)) ∷ (Rel relation.Le (Var 0 sort.Int) (Var 1 sort.Int)) ∷ []); locals = []; items = ((Data (Var 0 sort.Int) (Var 2 sort.Val) (Var 4 sort.List)) ∷ (Data (Var 1 sort.Int) (Var 3 sort.Val) (Var 5 sort.List)) ∷ []) }); post = (record { opened = []; facts = ([]); locals = []; items = ((Data (Var 0 sort.Int) (Var 2 sort.Val) (Var 4 sort.List)) ∷ (Data (Var 1 sort.Int) (Var 3 sort.Val) (Var 5 sort.List)) ∷ []) }) }) (record { temps = (name_p ∷ []); body = (c.Then (c.Return None) c.End) }) (s.Then 1 (s.Law name_sub_split ((Named name_k) ∷ (Number (pos 0)) ∷ (Number (pos 0)) ∷ (Number (pos 0)) ∷ []) ([])) s.NoBlock (s.Then 2 (s.Return ([]) ([]) ([])) s.NoBlock s.End)) ≡ Accepted
unfolding computing
edges_191 = refl

edges_192 : body_verdict (record { predicates = ([]); specs = ((record { is_void = true; name = name_f; params = (name_p ∷ []); vars = ((name_s, sort.Int) ∷ (name_t, sort.Int) ∷ (name_v, sort.Val) ∷ (name_w, sort.Val) ∷ (name_k, sort.List) ∷ (name_m, sort.List) ∷ []); pre = (record { opened = []; facts = ((Rel relation.Le (Number (pos 0)) (Var 0 sort.Int)) ∷ (Each (Var 4 sort.List) (Number (pos 0)) (Number (pos 9))) ∷ (Rel relation.Le (Number (pos 1)) (Of unary.Len (Var 4 sort.List))) ∷ (IsPtr (Var 2 sort.Val)) ∷ (IsInt (Var 2 sort.Val)) ∷ (Rel relation.Le (Number (pos 0)) (Of unary.Len (Var 4 sort.List))) ∷ (Rel relation.Ne (Var 0 sort.Int) (Var 1 sort.Int)) ∷ (Rel relation.Le (Var 0 sort.Int) (Var 1 sort.Int)) ∷ []); locals = []; items = ((Data (Var 0 sort.Int) (Var 2 sort.Val) (Var 4 sort.List)) ∷ (Data (Var 1 sort.Int) (Var 3 sort.Val) (Var 5 sort.List)) ∷ []) }); post = (record { opened = []; facts = ([]); locals = []; items = ((Data (Var 0 sort.Int) (Var 2 sort.Val) (Var 4 sort.List)) ∷ (Data (Var 1 sort.Int) (Var 3 sort.Val) (Var 5 sort.List)) ∷ []) }) }) ∷ []) }) (record { is_void = true; name = name_f; params = (name_p ∷ []); vars = ((name_s, sort.Int) ∷ (name_t, sort.Int) ∷ (name_v, sort.Val) ∷ (name_w, sort.Val) ∷ (name_k, sort.List) ∷ (name_m, sort.List) ∷ []); pre = (record { opened = []; facts = ((Rel relation.Le (Number (pos 0)) (Var 0 sort.Int)) ∷ (Each (Var 4 sort.List) (Number (pos 0)) (Number (pos 9))) ∷ (Rel relation.Le (Number (pos 1)) (Of unary.Len (Var 4 sort.List))) ∷ (IsPtr (Var 2 sort.Val)) ∷ (IsInt (Var 2 sort.Val)) ∷ (Rel relation.Le (Number (pos 0)) (Of unary.Len (Var 4 sort.List))) ∷ (Rel relation.Ne (Var 0 sort.Int) (Var 1 sort.Int)) ∷ (Rel relation.Le (Var 0 sort.Int) (Var 1 sort.Int)) ∷ []); locals = []; items = ((Data (Var 0 sort.Int) (Var 2 sort.Val) (Var 4 sort.List)) ∷ (Data (Var 1 sort.Int) (Var 3 sort.Val) (Var 5 sort.List)) ∷ []) }); post = (record { opened = []; facts = ([]); locals = []; items = ((Data (Var 0 sort.Int) (Var 2 sort.Val) (Var 4 sort.List)) ∷ (Data (Var 1 sort.Int) (Var 3 sort.Val) (Var 5 sort.List)) ∷ []) }) }) (record { temps = (name_p ∷ []); body = (c.Then (c.Return None) c.End) }) (s.Then 1 (s.Law name_sub_len ((Named name_k) ∷ (Number (pos 0)) ∷ (Number (pos 0)) ∷ []) ([])) s.NoBlock (s.Then 2 (s.Return ([]) ([]) ([])) s.NoBlock s.End)) ≡ Accepted
unfolding computing
edges_192 = refl

edges_193 : body_verdict (record { predicates = ([]); specs = ((record { is_void = true; name = name_f; params = (name_p ∷ []); vars = ((name_s, sort.Int) ∷ (name_t, sort.Int) ∷ (name_v, sort.Val) ∷ (name_w, sort.Val) ∷ (name_k, sort.List) ∷ (name_m, sort.List) ∷ []); pre = (record { opened = []; facts = ((Rel relation.Le (Number (pos 0)) (Var 0 sort.Int)) ∷ (Each (Var 4 sort.List) (Number (pos 0)) (Number (pos 9))) ∷ (Rel relation.Le (Number (pos 1)) (Of unary.Len (Var 4 sort.List))) ∷ (IsPtr (Var 2 sort.Val)) ∷ (IsInt (Var 2 sort.Val)) ∷ (Rel relation.Le (Number (pos 0)) (Of unary.Len (Var 4 sort.List))) ∷ (Rel relation.Ne (Var 0 sort.Int) (Var 1 sort.Int)) ∷ (Rel relation.Le (Var 0 sort.Int) (Var 1 sort.Int)) ∷ []); locals = []; items = ((Data (Var 0 sort.Int) (Var 2 sort.Val) (Var 4 sort.List)) ∷ (Data (Var 1 sort.Int) (Var 3 sort.Val) (Var 5 sort.List)) ∷ []) }); post = (record { opened = []; facts = ([]); locals = []; items = ((Data (Var 0 sort.Int) (Var 2 sort.Val) (Var 4 sort.List)) ∷ (Data (Var 1 sort.Int) (Var 3 sort.Val) (Var 5 sort.List)) ∷ []) }) }) ∷ []) }) (record { is_void = true; name = name_f; params = (name_p ∷ []); vars = ((name_s, sort.Int) ∷ (name_t, sort.Int) ∷ (name_v, sort.Val) ∷ (name_w, sort.Val) ∷ (name_k, sort.List) ∷ (name_m, sort.List) ∷ []); pre = (record { opened = []; facts = ((Rel relation.Le (Number (pos 0)) (Var 0 sort.Int)) ∷ (Each (Var 4 sort.List) (Number (pos 0)) (Number (pos 9))) ∷ (Rel relation.Le (Number (pos 1)) (Of unary.Len (Var 4 sort.List))) ∷ (IsPtr (Var 2 sort.Val)) ∷ (IsInt (Var 2 sort.Val)) ∷ (Rel relation.Le (Number (pos 0)) (Of unary.Len (Var 4 sort.List))) ∷ (Rel relation.Ne (Var 0 sort.Int) (Var 1 sort.Int)) ∷ (Rel relation.Le (Var 0 sort.Int) (Var 1 sort.Int)) ∷ []); locals = []; items = ((Data (Var 0 sort.Int) (Var 2 sort.Val) (Var 4 sort.List)) ∷ (Data (Var 1 sort.Int) (Var 3 sort.Val) (Var 5 sort.List)) ∷ []) }); post = (record { opened = []; facts = ([]); locals = []; items = ((Data (Var 0 sort.Int) (Var 2 sort.Val) (Var 4 sort.List)) ∷ (Data (Var 1 sort.Int) (Var 3 sort.Val) (Var 5 sort.List)) ∷ []) }) }) (record { temps = (name_p ∷ []); body = (c.Then (c.Return None) c.End) }) (s.Then 1 (s.Law name_list_cons ((Named name_k) ∷ []) ([])) s.NoBlock (s.Then 2 (s.Return ([]) ([]) ([])) s.NoBlock s.End)) ≡ Accepted
unfolding computing
edges_193 = refl

edges_194 : body_verdict (record { predicates = ([]); specs = ((record { is_void = true; name = name_f; params = (name_p ∷ []); vars = ((name_s, sort.Int) ∷ (name_t, sort.Int) ∷ (name_v, sort.Val) ∷ (name_w, sort.Val) ∷ (name_k, sort.List) ∷ (name_m, sort.List) ∷ []); pre = (record { opened = []; facts = ((Rel relation.Le (Number (pos 0)) (Var 0 sort.Int)) ∷ (Each (Var 4 sort.List) (Number (pos 0)) (Number (pos 9))) ∷ (Rel relation.Le (Number (pos 1)) (Of unary.Len (Var 4 sort.List))) ∷ (IsPtr (Var 2 sort.Val)) ∷ (IsInt (Var 2 sort.Val)) ∷ (Rel relation.Le (Number (pos 0)) (Of unary.Len (Var 4 sort.List))) ∷ (Rel relation.Ne (Var 0 sort.Int) (Var 1 sort.Int)) ∷ (Rel relation.Le (Var 0 sort.Int) (Var 1 sort.Int)) ∷ []); locals = []; items = ((Data (Var 0 sort.Int) (Var 2 sort.Val) (Var 4 sort.List)) ∷ (Data (Var 1 sort.Int) (Var 3 sort.Val) (Var 5 sort.List)) ∷ []) }); post = (record { opened = []; facts = ([]); locals = []; items = ((Data (Var 0 sort.Int) (Var 2 sort.Val) (Var 4 sort.List)) ∷ (Data (Var 1 sort.Int) (Var 3 sort.Val) (Var 5 sort.List)) ∷ []) }) }) ∷ []) }) (record { is_void = true; name = name_f; params = (name_p ∷ []); vars = ((name_s, sort.Int) ∷ (name_t, sort.Int) ∷ (name_v, sort.Val) ∷ (name_w, sort.Val) ∷ (name_k, sort.List) ∷ (name_m, sort.List) ∷ []); pre = (record { opened = []; facts = ((Rel relation.Le (Number (pos 0)) (Var 0 sort.Int)) ∷ (Each (Var 4 sort.List) (Number (pos 0)) (Number (pos 9))) ∷ (Rel relation.Le (Number (pos 1)) (Of unary.Len (Var 4 sort.List))) ∷ (IsPtr (Var 2 sort.Val)) ∷ (IsInt (Var 2 sort.Val)) ∷ (Rel relation.Le (Number (pos 0)) (Of unary.Len (Var 4 sort.List))) ∷ (Rel relation.Ne (Var 0 sort.Int) (Var 1 sort.Int)) ∷ (Rel relation.Le (Var 0 sort.Int) (Var 1 sort.Int)) ∷ []); locals = []; items = ((Data (Var 0 sort.Int) (Var 2 sort.Val) (Var 4 sort.List)) ∷ (Data (Var 1 sort.Int) (Var 3 sort.Val) (Var 5 sort.List)) ∷ []) }); post = (record { opened = []; facts = ([]); locals = []; items = ((Data (Var 0 sort.Int) (Var 2 sort.Val) (Var 4 sort.List)) ∷ (Data (Var 1 sort.Int) (Var 3 sort.Val) (Var 5 sort.List)) ∷ []) }) }) (record { temps = (name_p ∷ []); body = (c.Then (c.Return None) c.End) }) (s.Then 1 (s.Law name_len_pos ((Named name_k) ∷ []) ([])) s.NoBlock (s.Then 2 (s.Return ([]) ([]) ([])) s.NoBlock s.End)) ≡ Accepted
unfolding computing
edges_194 = refl

edges_195 : body_verdict (record { predicates = ([]); specs = ((record { is_void = true; name = name_f; params = (name_p ∷ []); vars = ((name_s, sort.Int) ∷ (name_t, sort.Int) ∷ (name_v, sort.Val) ∷ (name_w, sort.Val) ∷ (name_k, sort.List) ∷ (name_m, sort.List) ∷ []); pre = (record { opened = []; facts = ((Rel relation.Le (Number (pos 0)) (Var 0 sort.Int)) ∷ (Each (Var 4 sort.List) (Number (pos 0)) (Number (pos 9))) ∷ (Rel relation.Le (Number (pos 1)) (Of unary.Len (Var 4 sort.List))) ∷ (IsPtr (Var 2 sort.Val)) ∷ (IsInt (Var 2 sort.Val)) ∷ (Rel relation.Le (Number (pos 0)) (Of unary.Len (Var 4 sort.List))) ∷ (Rel relation.Ne (Var 0 sort.Int) (Var 1 sort.Int)) ∷ (Rel relation.Le (Var 0 sort.Int) (Var 1 sort.Int)) ∷ []); locals = []; items = ((Data (Var 0 sort.Int) (Var 2 sort.Val) (Var 4 sort.List)) ∷ (Data (Var 1 sort.Int) (Var 3 sort.Val) (Var 5 sort.List)) ∷ []) }); post = (record { opened = []; facts = ([]); locals = []; items = ((Data (Var 0 sort.Int) (Var 2 sort.Val) (Var 4 sort.List)) ∷ (Data (Var 1 sort.Int) (Var 3 sort.Val) (Var 5 sort.List)) ∷ []) }) }) ∷ []) }) (record { is_void = true; name = name_f; params = (name_p ∷ []); vars = ((name_s, sort.Int) ∷ (name_t, sort.Int) ∷ (name_v, sort.Val) ∷ (name_w, sort.Val) ∷ (name_k, sort.List) ∷ (name_m, sort.List) ∷ []); pre = (record { opened = []; facts = ((Rel relation.Le (Number (pos 0)) (Var 0 sort.Int)) ∷ (Each (Var 4 sort.List) (Number (pos 0)) (Number (pos 9))) ∷ (Rel relation.Le (Number (pos 1)) (Of unary.Len (Var 4 sort.List))) ∷ (IsPtr (Var 2 sort.Val)) ∷ (IsInt (Var 2 sort.Val)) ∷ (Rel relation.Le (Number (pos 0)) (Of unary.Len (Var 4 sort.List))) ∷ (Rel relation.Ne (Var 0 sort.Int) (Var 1 sort.Int)) ∷ (Rel relation.Le (Var 0 sort.Int) (Var 1 sort.Int)) ∷ []); locals = []; items = ((Data (Var 0 sort.Int) (Var 2 sort.Val) (Var 4 sort.List)) ∷ (Data (Var 1 sort.Int) (Var 3 sort.Val) (Var 5 sort.List)) ∷ []) }); post = (record { opened = []; facts = ([]); locals = []; items = ((Data (Var 0 sort.Int) (Var 2 sort.Val) (Var 4 sort.List)) ∷ (Data (Var 1 sort.Int) (Var 3 sort.Val) (Var 5 sort.List)) ∷ []) }) }) (record { temps = (name_p ∷ []); body = (c.Then (c.Return None) c.End) }) (s.Then 1 (s.Law name_rev_app ((Named name_k) ∷ (Named name_m) ∷ []) ([])) s.NoBlock (s.Then 2 (s.Return ([]) ([]) ([])) s.NoBlock s.End)) ≡ Accepted
unfolding computing
edges_195 = refl

edges_196 : body_verdict (record { predicates = ([]); specs = ((record { is_void = true; name = name_f; params = (name_p ∷ []); vars = ((name_s, sort.Int) ∷ (name_t, sort.Int) ∷ (name_v, sort.Val) ∷ (name_w, sort.Val) ∷ (name_k, sort.List) ∷ (name_m, sort.List) ∷ []); pre = (record { opened = []; facts = ((Rel relation.Le (Number (pos 0)) (Var 0 sort.Int)) ∷ (Each (Var 4 sort.List) (Number (pos 0)) (Number (pos 9))) ∷ (Rel relation.Le (Number (pos 1)) (Of unary.Len (Var 4 sort.List))) ∷ (IsPtr (Var 2 sort.Val)) ∷ (IsInt (Var 2 sort.Val)) ∷ (Rel relation.Le (Number (pos 0)) (Of unary.Len (Var 4 sort.List))) ∷ (Rel relation.Ne (Var 0 sort.Int) (Var 1 sort.Int)) ∷ (Rel relation.Le (Var 0 sort.Int) (Var 1 sort.Int)) ∷ []); locals = []; items = ((Data (Var 0 sort.Int) (Var 2 sort.Val) (Var 4 sort.List)) ∷ (Data (Var 1 sort.Int) (Var 3 sort.Val) (Var 5 sort.List)) ∷ []) }); post = (record { opened = []; facts = ([]); locals = []; items = ((Data (Var 0 sort.Int) (Var 2 sort.Val) (Var 4 sort.List)) ∷ (Data (Var 1 sort.Int) (Var 3 sort.Val) (Var 5 sort.List)) ∷ []) }) }) ∷ []) }) (record { is_void = true; name = name_f; params = (name_p ∷ []); vars = ((name_s, sort.Int) ∷ (name_t, sort.Int) ∷ (name_v, sort.Val) ∷ (name_w, sort.Val) ∷ (name_k, sort.List) ∷ (name_m, sort.List) ∷ []); pre = (record { opened = []; facts = ((Rel relation.Le (Number (pos 0)) (Var 0 sort.Int)) ∷ (Each (Var 4 sort.List) (Number (pos 0)) (Number (pos 9))) ∷ (Rel relation.Le (Number (pos 1)) (Of unary.Len (Var 4 sort.List))) ∷ (IsPtr (Var 2 sort.Val)) ∷ (IsInt (Var 2 sort.Val)) ∷ (Rel relation.Le (Number (pos 0)) (Of unary.Len (Var 4 sort.List))) ∷ (Rel relation.Ne (Var 0 sort.Int) (Var 1 sort.Int)) ∷ (Rel relation.Le (Var 0 sort.Int) (Var 1 sort.Int)) ∷ []); locals = []; items = ((Data (Var 0 sort.Int) (Var 2 sort.Val) (Var 4 sort.List)) ∷ (Data (Var 1 sort.Int) (Var 3 sort.Val) (Var 5 sort.List)) ∷ []) }); post = (record { opened = []; facts = ([]); locals = []; items = ((Data (Var 0 sort.Int) (Var 2 sort.Val) (Var 4 sort.List)) ∷ (Data (Var 1 sort.Int) (Var 3 sort.Val) (Var 5 sort.List)) ∷ []) }) }) (record { temps = (name_p ∷ []); body = (c.Then (c.Return None) c.End) }) (s.Then 1 (s.Law name_num_lo ((Named name_v) ∷ []) ([])) s.NoBlock (s.Then 2 (s.Return ([]) ([]) ([])) s.NoBlock s.End)) ≡ Accepted
unfolding computing
edges_196 = refl

edges_197 : body_verdict (record { predicates = ([]); specs = ((record { is_void = true; name = name_f; params = (name_p ∷ []); vars = ((name_s, sort.Int) ∷ (name_t, sort.Int) ∷ (name_v, sort.Val) ∷ (name_w, sort.Val) ∷ (name_k, sort.List) ∷ (name_m, sort.List) ∷ []); pre = (record { opened = []; facts = ((Rel relation.Le (Number (pos 0)) (Var 0 sort.Int)) ∷ (Each (Var 4 sort.List) (Number (pos 0)) (Number (pos 9))) ∷ (Rel relation.Le (Number (pos 1)) (Of unary.Len (Var 4 sort.List))) ∷ (IsPtr (Var 2 sort.Val)) ∷ (IsInt (Var 2 sort.Val)) ∷ (Rel relation.Le (Number (pos 0)) (Of unary.Len (Var 4 sort.List))) ∷ (Rel relation.Ne (Var 0 sort.Int) (Var 1 sort.Int)) ∷ (Rel relation.Le (Var 0 sort.Int) (Var 1 sort.Int)) ∷ []); locals = []; items = ((Data (Var 0 sort.Int) (Var 2 sort.Val) (Var 4 sort.List)) ∷ (Data (Var 1 sort.Int) (Var 3 sort.Val) (Var 5 sort.List)) ∷ []) }); post = (record { opened = []; facts = ([]); locals = []; items = ((Data (Var 0 sort.Int) (Var 2 sort.Val) (Var 4 sort.List)) ∷ (Data (Var 1 sort.Int) (Var 3 sort.Val) (Var 5 sort.List)) ∷ []) }) }) ∷ []) }) (record { is_void = true; name = name_f; params = (name_p ∷ []); vars = ((name_s, sort.Int) ∷ (name_t, sort.Int) ∷ (name_v, sort.Val) ∷ (name_w, sort.Val) ∷ (name_k, sort.List) ∷ (name_m, sort.List) ∷ []); pre = (record { opened = []; facts = ((Rel relation.Le (Number (pos 0)) (Var 0 sort.Int)) ∷ (Each (Var 4 sort.List) (Number (pos 0)) (Number (pos 9))) ∷ (Rel relation.Le (Number (pos 1)) (Of unary.Len (Var 4 sort.List))) ∷ (IsPtr (Var 2 sort.Val)) ∷ (IsInt (Var 2 sort.Val)) ∷ (Rel relation.Le (Number (pos 0)) (Of unary.Len (Var 4 sort.List))) ∷ (Rel relation.Ne (Var 0 sort.Int) (Var 1 sort.Int)) ∷ (Rel relation.Le (Var 0 sort.Int) (Var 1 sort.Int)) ∷ []); locals = []; items = ((Data (Var 0 sort.Int) (Var 2 sort.Val) (Var 4 sort.List)) ∷ (Data (Var 1 sort.Int) (Var 3 sort.Val) (Var 5 sort.List)) ∷ []) }); post = (record { opened = []; facts = ([]); locals = []; items = ((Data (Var 0 sort.Int) (Var 2 sort.Val) (Var 4 sort.List)) ∷ (Data (Var 1 sort.Int) (Var 3 sort.Val) (Var 5 sort.List)) ∷ []) }) }) (record { temps = (name_p ∷ []); body = (c.Then (c.Return None) c.End) }) (s.Then 1 (s.Law name_unum_hi ((Named name_v) ∷ []) ([])) s.NoBlock (s.Then 2 (s.Return ([]) ([]) ([])) s.NoBlock s.End)) ≡ Accepted
unfolding computing
edges_197 = refl

edges_198 : body_verdict (record { predicates = ([]); specs = ((record { is_void = true; name = name_f; params = (name_p ∷ []); vars = ((name_s, sort.Int) ∷ (name_t, sort.Int) ∷ (name_v, sort.Val) ∷ (name_w, sort.Val) ∷ (name_k, sort.List) ∷ (name_m, sort.List) ∷ []); pre = (record { opened = []; facts = ((Rel relation.Le (Number (pos 0)) (Var 0 sort.Int)) ∷ (Each (Var 4 sort.List) (Number (pos 0)) (Number (pos 9))) ∷ (Rel relation.Le (Number (pos 1)) (Of unary.Len (Var 4 sort.List))) ∷ (IsPtr (Var 2 sort.Val)) ∷ (IsInt (Var 2 sort.Val)) ∷ (Rel relation.Le (Number (pos 0)) (Of unary.Len (Var 4 sort.List))) ∷ (Rel relation.Ne (Var 0 sort.Int) (Var 1 sort.Int)) ∷ (Rel relation.Le (Var 0 sort.Int) (Var 1 sort.Int)) ∷ []); locals = []; items = ((Data (Var 0 sort.Int) (Var 2 sort.Val) (Var 4 sort.List)) ∷ (Data (Var 1 sort.Int) (Var 3 sort.Val) (Var 5 sort.List)) ∷ []) }); post = (record { opened = []; facts = ([]); locals = []; items = ((Data (Var 0 sort.Int) (Var 2 sort.Val) (Var 4 sort.List)) ∷ (Data (Var 1 sort.Int) (Var 3 sort.Val) (Var 5 sort.List)) ∷ []) }) }) ∷ []) }) (record { is_void = true; name = name_f; params = (name_p ∷ []); vars = ((name_s, sort.Int) ∷ (name_t, sort.Int) ∷ (name_v, sort.Val) ∷ (name_w, sort.Val) ∷ (name_k, sort.List) ∷ (name_m, sort.List) ∷ []); pre = (record { opened = []; facts = ((Rel relation.Le (Number (pos 0)) (Var 0 sort.Int)) ∷ (Each (Var 4 sort.List) (Number (pos 0)) (Number (pos 9))) ∷ (Rel relation.Le (Number (pos 1)) (Of unary.Len (Var 4 sort.List))) ∷ (IsPtr (Var 2 sort.Val)) ∷ (IsInt (Var 2 sort.Val)) ∷ (Rel relation.Le (Number (pos 0)) (Of unary.Len (Var 4 sort.List))) ∷ (Rel relation.Ne (Var 0 sort.Int) (Var 1 sort.Int)) ∷ (Rel relation.Le (Var 0 sort.Int) (Var 1 sort.Int)) ∷ []); locals = []; items = ((Data (Var 0 sort.Int) (Var 2 sort.Val) (Var 4 sort.List)) ∷ (Data (Var 1 sort.Int) (Var 3 sort.Val) (Var 5 sort.List)) ∷ []) }); post = (record { opened = []; facts = ([]); locals = []; items = ((Data (Var 0 sort.Int) (Var 2 sort.Val) (Var 4 sort.List)) ∷ (Data (Var 1 sort.Int) (Var 3 sort.Val) (Var 5 sort.List)) ∷ []) }) }) (record { temps = (name_p ∷ []); body = (c.Then (c.Return None) c.End) }) (s.Then 1 (s.Law name_vi_wrap ((Named name_s) ∷ (Named name_t) ∷ []) ([])) s.NoBlock (s.Then 2 (s.Return ([]) ([]) ([])) s.NoBlock s.End)) ≡ Accepted
unfolding computing
edges_198 = refl

edges_199 : body_verdict (record { predicates = ([]); specs = ((record { is_void = true; name = name_f; params = (name_p ∷ []); vars = ((name_s, sort.Int) ∷ (name_t, sort.Int) ∷ (name_v, sort.Val) ∷ (name_w, sort.Val) ∷ (name_k, sort.List) ∷ (name_m, sort.List) ∷ []); pre = (record { opened = []; facts = ((Rel relation.Le (Number (pos 0)) (Var 0 sort.Int)) ∷ (Each (Var 4 sort.List) (Number (pos 0)) (Number (pos 9))) ∷ (Rel relation.Le (Number (pos 1)) (Of unary.Len (Var 4 sort.List))) ∷ (IsPtr (Var 2 sort.Val)) ∷ (IsInt (Var 2 sort.Val)) ∷ (Rel relation.Le (Number (pos 0)) (Of unary.Len (Var 4 sort.List))) ∷ (Rel relation.Ne (Var 0 sort.Int) (Var 1 sort.Int)) ∷ (Rel relation.Le (Var 0 sort.Int) (Var 1 sort.Int)) ∷ []); locals = []; items = ((Data (Var 0 sort.Int) (Var 2 sort.Val) (Var 4 sort.List)) ∷ (Data (Var 1 sort.Int) (Var 3 sort.Val) (Var 5 sort.List)) ∷ []) }); post = (record { opened = []; facts = ([]); locals = []; items = ((Data (Var 0 sort.Int) (Var 2 sort.Val) (Var 4 sort.List)) ∷ (Data (Var 1 sort.Int) (Var 3 sort.Val) (Var 5 sort.List)) ∷ []) }) }) ∷ []) }) (record { is_void = true; name = name_f; params = (name_p ∷ []); vars = ((name_s, sort.Int) ∷ (name_t, sort.Int) ∷ (name_v, sort.Val) ∷ (name_w, sort.Val) ∷ (name_k, sort.List) ∷ (name_m, sort.List) ∷ []); pre = (record { opened = []; facts = ((Rel relation.Le (Number (pos 0)) (Var 0 sort.Int)) ∷ (Each (Var 4 sort.List) (Number (pos 0)) (Number (pos 9))) ∷ (Rel relation.Le (Number (pos 1)) (Of unary.Len (Var 4 sort.List))) ∷ (IsPtr (Var 2 sort.Val)) ∷ (IsInt (Var 2 sort.Val)) ∷ (Rel relation.Le (Number (pos 0)) (Of unary.Len (Var 4 sort.List))) ∷ (Rel relation.Ne (Var 0 sort.Int) (Var 1 sort.Int)) ∷ (Rel relation.Le (Var 0 sort.Int) (Var 1 sort.Int)) ∷ []); locals = []; items = ((Data (Var 0 sort.Int) (Var 2 sort.Val) (Var 4 sort.List)) ∷ (Data (Var 1 sort.Int) (Var 3 sort.Val) (Var 5 sort.List)) ∷ []) }); post = (record { opened = []; facts = ([]); locals = []; items = ((Data (Var 0 sort.Int) (Var 2 sort.Val) (Var 4 sort.List)) ∷ (Data (Var 1 sort.Int) (Var 3 sort.Val) (Var 5 sort.List)) ∷ []) }) }) (record { temps = (name_p ∷ []); body = (c.Then (c.Return None) c.End) }) (s.Then 1 (s.Law name_ptr_null ((Named name_v) ∷ []) ([])) s.NoBlock (s.Then 2 (s.Return ([]) ([]) ([])) s.NoBlock s.End)) ≡ Accepted
unfolding computing
edges_199 = refl

edges_200 : body_verdict (record { predicates = ([]); specs = ((record { is_void = true; name = name_f; params = (name_p ∷ []); vars = ((name_s, sort.Int) ∷ (name_t, sort.Int) ∷ (name_v, sort.Val) ∷ (name_w, sort.Val) ∷ (name_k, sort.List) ∷ (name_m, sort.List) ∷ []); pre = (record { opened = []; facts = ((Rel relation.Le (Number (pos 0)) (Var 0 sort.Int)) ∷ (Each (Var 4 sort.List) (Number (pos 0)) (Number (pos 9))) ∷ (Rel relation.Le (Number (pos 1)) (Of unary.Len (Var 4 sort.List))) ∷ (IsPtr (Var 2 sort.Val)) ∷ (IsInt (Var 2 sort.Val)) ∷ (Rel relation.Le (Number (pos 0)) (Of unary.Len (Var 4 sort.List))) ∷ (Rel relation.Ne (Var 0 sort.Int) (Var 1 sort.Int)) ∷ (Rel relation.Le (Var 0 sort.Int) (Var 1 sort.Int)) ∷ []); locals = []; items = ((Data (Var 0 sort.Int) (Var 2 sort.Val) (Var 4 sort.List)) ∷ (Data (Var 1 sort.Int) (Var 3 sort.Val) (Var 5 sort.List)) ∷ []) }); post = (record { opened = []; facts = ([]); locals = []; items = ((Data (Var 0 sort.Int) (Var 2 sort.Val) (Var 4 sort.List)) ∷ (Data (Var 1 sort.Int) (Var 3 sort.Val) (Var 5 sort.List)) ∷ []) }) }) ∷ []) }) (record { is_void = true; name = name_f; params = (name_p ∷ []); vars = ((name_s, sort.Int) ∷ (name_t, sort.Int) ∷ (name_v, sort.Val) ∷ (name_w, sort.Val) ∷ (name_k, sort.List) ∷ (name_m, sort.List) ∷ []); pre = (record { opened = []; facts = ((Rel relation.Le (Number (pos 0)) (Var 0 sort.Int)) ∷ (Each (Var 4 sort.List) (Number (pos 0)) (Number (pos 9))) ∷ (Rel relation.Le (Number (pos 1)) (Of unary.Len (Var 4 sort.List))) ∷ (IsPtr (Var 2 sort.Val)) ∷ (IsInt (Var 2 sort.Val)) ∷ (Rel relation.Le (Number (pos 0)) (Of unary.Len (Var 4 sort.List))) ∷ (Rel relation.Ne (Var 0 sort.Int) (Var 1 sort.Int)) ∷ (Rel relation.Le (Var 0 sort.Int) (Var 1 sort.Int)) ∷ []); locals = []; items = ((Data (Var 0 sort.Int) (Var 2 sort.Val) (Var 4 sort.List)) ∷ (Data (Var 1 sort.Int) (Var 3 sort.Val) (Var 5 sort.List)) ∷ []) }); post = (record { opened = []; facts = ([]); locals = []; items = ((Data (Var 0 sort.Int) (Var 2 sort.Val) (Var 4 sort.List)) ∷ (Data (Var 1 sort.Int) (Var 3 sort.Val) (Var 5 sort.List)) ∷ []) }) }) (record { temps = (name_p ∷ []); body = (c.Then (c.Return None) c.End) }) (s.Then 1 (s.Law name_int_vi ((Named name_v) ∷ []) ([])) s.NoBlock (s.Then 2 (s.Return ([]) ([]) ([])) s.NoBlock s.End)) ≡ Accepted
unfolding computing
edges_200 = refl
