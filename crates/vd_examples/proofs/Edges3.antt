-- Steps at the edges of facts, laws, items and values.
use Rattle.std.specs.Prelude.{◌≡◌, refl, pos, [], ◌∷◌, true, None}
use Rattle.vd_terms.specs.Terms.{Number, Var, Named, Of, Of2}
use Rattle.vd_terms.specs.declared.assertion.FactOf.TheVariants.{Rel, IsInt, IsPtr, Each}
use Rattle.vd_terms.specs.declared.assertion.ItemOf.TheVariants.{Data}
use Rattle.vd_rules.specs.Computing.{computing}
use Rattle.vd_rules.specs.Verdicts.{Accepted, RefusedAt, body_verdict}
use Rattle.vd_terms.specs.declared.operation.Unary.TheVariants as unary
use Rattle.vd_terms.specs.declared.operation.Binary.TheVariants as binary
use Rattle.vd_logic.specs.declared.term.Sort.TheVariants as sort
use Rattle.vd_logic.specs.declared.assertion.Rel.TheVariants as relation
use Rattle.vd_steps.specs.Code as c
use Rattle.vd_steps.specs.Script as s
use Rattle.vd_examples.specs.Names.{name_band_hi, name_band_lo, name_cons_head, name_each_hi, name_eq_zero, name_f, name_k, name_len_pos, name_len_rep, name_len_upd, name_lt_one, name_m, name_ne_lt, name_nope, name_nth_rep, name_num_vi, name_off_inj, name_p, name_quot_hi, name_quot_lo, name_rem_eq, name_s, name_sub_one, name_sum_cons, name_sum_hi, name_sum_lo, name_t, name_unum_vi, name_v, name_vi_inj, name_vu_inj, name_w}

edges_201 : body_verdict (record { predicates = ([]); specs = ((record { is_void = true; name = name_f; params = (name_p ∷ []); vars = ((name_s, sort.Int) ∷ (name_t, sort.Int) ∷ (name_v, sort.Val) ∷ (name_w, sort.Val) ∷ (name_k, sort.List) ∷ (name_m, sort.List) ∷ []); pre = (record { opened = []; facts = ((Rel relation.Le (Number (pos 0)) (Var 0 sort.Int)) ∷ (Each (Var 4 sort.List) (Number (pos 0)) (Number (pos 9))) ∷ (Rel relation.Le (Number (pos 1)) (Of unary.Len (Var 4 sort.List))) ∷ (IsPtr (Var 2 sort.Val)) ∷ (IsInt (Var 2 sort.Val)) ∷ (Rel relation.Le (Number (pos 0)) (Of unary.Len (Var 4 sort.List))) ∷ (Rel relation.Ne (Var 0 sort.Int) (Var 1 sort.Int)) ∷ (Rel relation.Le (Var 0 sort.Int) (Var 1 sort.Int)) ∷ []); locals = []; items = ((Data (Var 0 sort.Int) (Var 2 sort.Val) (Var 4 sort.List)) ∷ (Data (Var 1 sort.Int) (Var 3 sort.Val) (Var 5 sort.List)) ∷ []) }); post = (record { opened = []; facts = ([]); locals = []; items = ((Data (Var 0 sort.Int) (Var 2 sort.Val) (Var 4 sort.List)) ∷ (Data (Var 1 sort.Int) (Var 3 sort.Val) (Var 5 sort.List)) ∷ []) }) }) ∷ []) }) (record { is_void = true; name = name_f; params = (name_p ∷ []); vars = ((name_s, sort.Int) ∷ (name_t, sort.Int) ∷ (name_v, sort.Val) ∷ (name_w, sort.Val) ∷ (name_k, sort.List) ∷ (name_m, sort.List) ∷ []); pre = (record { opened = []; facts = ((Rel relation.Le (Number (pos 0)) (Var 0 sort.Int)) ∷ (Each (Var 4 sort.List) (Number (pos 0)) (Number (pos 9))) ∷ (Rel relation.Le (Number (pos 1)) (Of unary.Len (Var 4 sort.List))) ∷ (IsPtr (Var 2 sort.Val)) ∷ (IsInt (Var 2 sort.Val)) ∷ (Rel relation.Le (Number (pos 0)) (Of unary.Len (Var 4 sort.List))) ∷ (Rel relation.Ne (Var 0 sort.Int) (Var 1 sort.Int)) ∷ (Rel relation.Le (Var 0 sort.Int) (Var 1 sort.Int)) ∷ []); locals = []; items = ((Data (Var 0 sort.Int) (Var 2 sort.Val) (Var 4 sort.List)) ∷ (Data (Var 1 sort.Int) (Var 3 sort.Val) (Var 5 sort.List)) ∷ []) }); post = (record { opened = []; facts = ([]); locals = []; items = ((Data (Var 0 sort.Int) (Var 2 sort.Val) (Var 4 sort.List)) ∷ (Data (Var 1 sort.Int) (Var 3 sort.Val) (Var 5 sort.List)) ∷ []) }) }) (record { temps = (name_p ∷ []); body = (c.Then (c.Return None) c.End) }) (s.Then 1 (s.Law name_sum_cons ((Named name_v) ∷ (Named name_k) ∷ []) ([])) s.NoBlock (s.Then 2 (s.Return ([]) ([]) ([])) s.NoBlock s.End)) ≡ Accepted
unfolding computing
edges_201 = refl

edges_202 : body_verdict (record { predicates = ([]); specs = ((record { is_void = true; name = name_f; params = (name_p ∷ []); vars = ((name_s, sort.Int) ∷ (name_t, sort.Int) ∷ (name_v, sort.Val) ∷ (name_w, sort.Val) ∷ (name_k, sort.List) ∷ (name_m, sort.List) ∷ []); pre = (record { opened = []; facts = ((Rel relation.Le (Number (pos 0)) (Var 0 sort.Int)) ∷ (Each (Var 4 sort.List) (Number (pos 0)) (Number (pos 9))) ∷ (Rel relation.Le (Number (pos 1)) (Of unary.Len (Var 4 sort.List))) ∷ (IsPtr (Var 2 sort.Val)) ∷ (IsInt (Var 2 sort.Val)) ∷ (Rel relation.Le (Number (pos 0)) (Of unary.Len (Var 4 sort.List))) ∷ (Rel relation.Ne (Var 0 sort.Int) (Var 1 sort.Int)) ∷ (Rel relation.Le (Var 0 sort.Int) (Var 1 sort.Int)) ∷ []); locals = []; items = ((Data (Var 0 sort.Int) (Var 2 sort.Val) (Var 4 sort.List)) ∷ (Data (Var 1 sort.Int) (Var 3 sort.Val) (Var 5 sort.List)) ∷ []) }); post = (record { opened = []; facts = ([]); locals = []; items = ((Data (Var 0 sort.Int) (Var 2 sort.Val) (Var 4 sort.List)) ∷ (Data (Var 1 sort.Int) (Var 3 sort.Val) (Var 5 sort.List)) ∷ []) }) }) ∷ []) }) (record { is_void = true; name = name_f; params = (name_p ∷ []); vars = ((name_s, sort.Int) ∷ (name_t, sort.Int) ∷ (name_v, sort.Val) ∷ (name_w, sort.Val) ∷ (name_k, sort.List) ∷ (name_m, sort.List) ∷ []); pre = (record { opened = []; facts = ((Rel relation.Le (Number (pos 0)) (Var 0 sort.Int)) ∷ (Each (Var 4 sort.List) (Number (pos 0)) (Number (pos 9))) ∷ (Rel relation.Le (Number (pos 1)) (Of unary.Len (Var 4 sort.List))) ∷ (IsPtr (Var 2 sort.Val)) ∷ (IsInt (Var 2 sort.Val)) ∷ (Rel relation.Le (Number (pos 0)) (Of unary.Len (Var 4 sort.List))) ∷ (Rel relation.Ne (Var 0 sort.Int) (Var 1 sort.Int)) ∷ (Rel relation.Le (Var 0 sort.Int) (Var 1 sort.Int)) ∷ []); locals = []; items = ((Data (Var 0 sort.Int) (Var 2 sort.Val) (Var 4 sort.List)) ∷ (Data (Var 1 sort.Int) (Var 3 sort.Val) (Var 5 sort.List)) ∷ []) }); post = (record { opened = []; facts = ([]); locals = []; items = ((Data (Var 0 sort.Int) (Var 2 sort.Val) (Var 4 sort.List)) ∷ (Data (Var 1 sort.Int) (Var 3 sort.Val) (Var 5 sort.List)) ∷ []) }) }) (record { temps = (name_p ∷ []); body = (c.Then (c.Return None) c.End) }) (s.Then 1 (s.Law name_nope ((Named name_s) ∷ []) ([])) s.NoBlock (s.Then 2 (s.Return ([]) ([]) ([])) s.NoBlock s.End)) ≡ (RefusedAt 1 26 1)
unfolding computing
edges_202 = refl

edges_203 : body_verdict (record { predicates = ([]); specs = ((record { is_void = true; name = name_f; params = (name_p ∷ []); vars = ((name_s, sort.Int) ∷ (name_t, sort.Int) ∷ (name_v, sort.Val) ∷ (name_w, sort.Val) ∷ (name_k, sort.List) ∷ (name_m, sort.List) ∷ []); pre = (record { opened = []; facts = ((Rel relation.Le (Number (pos 0)) (Var 0 sort.Int)) ∷ (Each (Var 4 sort.List) (Number (pos 0)) (Number (pos 9))) ∷ (Rel relation.Le (Number (pos 1)) (Of unary.Len (Var 4 sort.List))) ∷ (IsPtr (Var 2 sort.Val)) ∷ (IsInt (Var 2 sort.Val)) ∷ (Rel relation.Le (Number (pos 0)) (Of unary.Len (Var 4 sort.List))) ∷ (Rel relation.Ne (Var 0 sort.Int) (Var 1 sort.Int)) ∷ (Rel relation.Le (Var 0 sort.Int) (Var 1 sort.Int)) ∷ []); locals = []; items = ((Data (Var 0 sort.Int) (Var 2 sort.Val) (Var 4 sort.List)) ∷ (Data (Var 1 sort.Int) (Var 3 sort.Val) (Var 5 sort.List)) ∷ []) }); post = (record { opened = []; facts = ([]); locals = []; items = ((Data (Var 0 sort.Int) (Var 2 sort.Val) (Var 4 sort.List)) ∷ (Data (Var 1 sort.Int) (Var 3 sort.Val) (Var 5 sort.List)) ∷ []) }) }) ∷ []) }) (record { is_void = true; name = name_f; params = (name_p ∷ []); vars = ((name_s, sort.Int) ∷ (name_t, sort.Int) ∷ (name_v, sort.Val) ∷ (name_w, sort.Val) ∷ (name_k, sort.List) ∷ (name_m, sort.List) ∷ []); pre = (record { opened = []; facts = ((Rel relation.Le (Number (pos 0)) (Var 0 sort.Int)) ∷ (Each (Var 4 sort.List) (Number (pos 0)) (Number (pos 9))) ∷ (Rel relation.Le (Number (pos 1)) (Of unary.Len (Var 4 sort.List))) ∷ (IsPtr (Var 2 sort.Val)) ∷ (IsInt (Var 2 sort.Val)) ∷ (Rel relation.Le (Number (pos 0)) (Of unary.Len (Var 4 sort.List))) ∷ (Rel relation.Ne (Var 0 sort.Int) (Var 1 sort.Int)) ∷ (Rel relation.Le (Var 0 sort.Int) (Var 1 sort.Int)) ∷ []); locals = []; items = ((Data (Var 0 sort.Int) (Var 2 sort.Val) (Var 4 sort.List)) ∷ (Data (Var 1 sort.Int) (Var 3 sort.Val) (Var 5 sort.List)) ∷ []) }); post = (record { opened = []; facts = ([]); locals = []; items = ((Data (Var 0 sort.Int) (Var 2 sort.Val) (Var 4 sort.List)) ∷ (Data (Var 1 sort.Int) (Var 3 sort.Val) (Var 5 sort.List)) ∷ []) }) }) (record { temps = (name_p ∷ []); body = (c.Then (c.Return None) c.End) }) (s.Then 1 (s.Law name_len_pos ((Named name_s) ∷ []) ([])) s.NoBlock (s.Then 2 (s.Return ([]) ([]) ([])) s.NoBlock s.End)) ≡ (RefusedAt 1 26 1)
unfolding computing
edges_203 = refl

edges_204 : body_verdict (record { predicates = ([]); specs = ((record { is_void = true; name = name_f; params = (name_p ∷ []); vars = ((name_s, sort.Int) ∷ (name_t, sort.Int) ∷ (name_v, sort.Val) ∷ (name_w, sort.Val) ∷ (name_k, sort.List) ∷ (name_m, sort.List) ∷ []); pre = (record { opened = []; facts = ((Rel relation.Le (Number (pos 0)) (Var 0 sort.Int)) ∷ (Each (Var 4 sort.List) (Number (pos 0)) (Number (pos 9))) ∷ (Rel relation.Le (Number (pos 1)) (Of unary.Len (Var 4 sort.List))) ∷ (IsPtr (Var 2 sort.Val)) ∷ (IsInt (Var 2 sort.Val)) ∷ (Rel relation.Le (Number (pos 0)) (Of unary.Len (Var 4 sort.List))) ∷ (Rel relation.Ne (Var 0 sort.Int) (Var 1 sort.Int)) ∷ (Rel relation.Le (Var 0 sort.Int) (Var 1 sort.Int)) ∷ []); locals = []; items = ((Data (Var 0 sort.Int) (Var 2 sort.Val) (Var 4 sort.List)) ∷ (Data (Var 1 sort.Int) (Var 3 sort.Val) (Var 5 sort.List)) ∷ []) }); post = (record { opened = []; facts = ([]); locals = []; items = ((Data (Var 0 sort.Int) (Var 2 sort.Val) (Var 4 sort.List)) ∷ (Data (Var 1 sort.Int) (Var 3 sort.Val) (Var 5 sort.List)) ∷ []) }) }) ∷ []) }) (record { is_void = true; name = name_f; params = (name_p ∷ []); vars = ((name_s, sort.Int) ∷ (name_t, sort.Int) ∷ (name_v, sort.Val) ∷ (name_w, sort.Val) ∷ (name_k, sort.List) ∷ (name_m, sort.List) ∷ []); pre = (record { opened = []; facts = ((Rel relation.Le (Number (pos 0)) (Var 0 sort.Int)) ∷ (Each (Var 4 sort.List) (Number (pos 0)) (Number (pos 9))) ∷ (Rel relation.Le (Number (pos 1)) (Of unary.Len (Var 4 sort.List))) ∷ (IsPtr (Var 2 sort.Val)) ∷ (IsInt (Var 2 sort.Val)) ∷ (Rel relation.Le (Number (pos 0)) (Of unary.Len (Var 4 sort.List))) ∷ (Rel relation.Ne (Var 0 sort.Int) (Var 1 sort.Int)) ∷ (Rel relation.Le (Var 0 sort.Int) (Var 1 sort.Int)) ∷ []); locals = []; items = ((Data (Var 0 sort.Int) (Var 2 sort.Val) (Var 4 sort.List)) ∷ (Data (Var 1 sort.Int) (Var 3 sort.Val) (Var 5 sort.List)) ∷ []) }); post = (record { opened = []; facts = ([]); locals = []; items = ((Data (Var 0 sort.Int) (Var 2 sort.Val) (Var 4 sort.List)) ∷ (Data (Var 1 sort.Int) (Var 3 sort.Val) (Var 5 sort.List)) ∷ []) }) }) (record { temps = (name_p ∷ []); body = (c.Then (c.Return None) c.End) }) (s.Then 1 (s.Law name_len_pos ((Named name_k) ∷ (Named name_k) ∷ []) ([])) s.NoBlock (s.Then 2 (s.Return ([]) ([]) ([])) s.NoBlock s.End)) ≡ (RefusedAt 1 26 1)
unfolding computing
edges_204 = refl

edges_205 : body_verdict (record { predicates = ([]); specs = ((record { is_void = true; name = name_f; params = (name_p ∷ []); vars = ((name_s, sort.Int) ∷ (name_t, sort.Int) ∷ (name_v, sort.Val) ∷ (name_w, sort.Val) ∷ (name_k, sort.List) ∷ (name_m, sort.List) ∷ []); pre = (record { opened = []; facts = ((Rel relation.Le (Number (pos 0)) (Var 0 sort.Int)) ∷ (Each (Var 4 sort.List) (Number (pos 0)) (Number (pos 9))) ∷ (Rel relation.Le (Number (pos 1)) (Of unary.Len (Var 4 sort.List))) ∷ (IsPtr (Var 2 sort.Val)) ∷ (IsInt (Var 2 sort.Val)) ∷ (Rel relation.Le (Number (pos 0)) (Of unary.Len (Var 4 sort.List))) ∷ (Rel relation.Ne (Var 0 sort.Int) (Var 1 sort.Int)) ∷ (Rel relation.Le (Var 0 sort.Int) (Var 1 sort.Int)) ∷ []); locals = []; items = ((Data (Var 0 sort.Int) (Var 2 sort.Val) (Var 4 sort.List)) ∷ (Data (Var 1 sort.Int) (Var 3 sort.Val) (Var 5 sort.List)) ∷ []) }); post = (record { opened = []; facts = ([]); locals = []; items = ((Data (Var 0 sort.Int) (Var 2 sort.Val) (Var 4 sort.List)) ∷ (Data (Var 1 sort.Int) (Var 3 sort.Val) (Var 5 sort.List)) ∷ []) }) }) ∷ []) }) (record { is_void = true; name = name_f; params = (name_p ∷ []); vars = ((name_s, sort.Int) ∷ (name_t, sort.Int) ∷ (name_v, sort.Val) ∷ (name_w, sort.Val) ∷ (name_k, sort.List) ∷ (name_m, sort.List) ∷ []); pre = (record { opened = []; facts = ((Rel relation.Le (Number (pos 0)) (Var 0 sort.Int)) ∷ (Each (Var 4 sort.List) (Number (pos 0)) (Number (pos 9))) ∷ (Rel relation.Le (Number (pos 1)) (Of unary.Len (Var 4 sort.List))) ∷ (IsPtr (Var 2 sort.Val)) ∷ (IsInt (Var 2 sort.Val)) ∷ (Rel relation.Le (Number (pos 0)) (Of unary.Len (Var 4 sort.List))) ∷ (Rel relation.Ne (Var 0 sort.Int) (Var 1 sort.Int)) ∷ (Rel relation.Le (Var 0 sort.Int) (Var 1 sort.Int)) ∷ []); locals = []; items = ((Data (Var 0 sort.Int) (Var 2 sort.Val) (Var 4 sort.List)) ∷ (Data (Var 1 sort.Int) (Var 3 sort.Val) (Var 5 sort.List)) ∷ []) }); post = (record { opened = []; facts = ([]); locals = []; items = ((Data (Var 0 sort.Int) (Var 2 sort.Val) (Var 4 sort.List)) ∷ (Data (Var 1 sort.Int) (Var 3 sort.Val) (Var 5 sort.List)) ∷ []) }) }) (record { temps = (name_p ∷ []); body = (c.Then (c.Return None) c.End) }) (s.Then 1 (s.Law name_band_hi ((Named name_s) ∷ (Number (pos 7)) ∷ []) ([])) s.NoBlock (s.Then 2 (s.Return ([]) ([]) ([])) s.NoBlock s.End)) ≡ Accepted
unfolding computing
edges_205 = refl

edges_206 : body_verdict (record { predicates = ([]); specs = ((record { is_void = true; name = name_f; params = (name_p ∷ []); vars = ((name_s, sort.Int) ∷ (name_t, sort.Int) ∷ (name_v, sort.Val) ∷ (name_w, sort.Val) ∷ (name_k, sort.List) ∷ (name_m, sort.List) ∷ []); pre = (record { opened = []; facts = ((Rel relation.Le (Number (pos 0)) (Var 0 sort.Int)) ∷ (Each (Var 4 sort.List) (Number (pos 0)) (Number (pos 9))) ∷ (Rel relation.Le (Number (pos 1)) (Of unary.Len (Var 4 sort.List))) ∷ (IsPtr (Var 2 sort.Val)) ∷ (IsInt (Var 2 sort.Val)) ∷ (Rel relation.Le (Number (pos 0)) (Of unary.Len (Var 4 sort.List))) ∷ (Rel relation.Ne (Var 0 sort.Int) (Var 1 sort.Int)) ∷ (Rel relation.Le (Var 0 sort.Int) (Var 1 sort.Int)) ∷ []); locals = []; items = ((Data (Var 0 sort.Int) (Var 2 sort.Val) (Var 4 sort.List)) ∷ (Data (Var 1 sort.Int) (Var 3 sort.Val) (Var 5 sort.List)) ∷ []) }); post = (record { opened = []; facts = ([]); locals = []; items = ((Data (Var 0 sort.Int) (Var 2 sort.Val) (Var 4 sort.List)) ∷ (Data (Var 1 sort.Int) (Var 3 sort.Val) (Var 5 sort.List)) ∷ []) }) }) ∷ []) }) (record { is_void = true; name = name_f; params = (name_p ∷ []); vars = ((name_s, sort.Int) ∷ (name_t, sort.Int) ∷ (name_v, sort.Val) ∷ (name_w, sort.Val) ∷ (name_k, sort.List) ∷ (name_m, sort.List) ∷ []); pre = (record { opened = []; facts = ((Rel relation.Le (Number (pos 0)) (Var 0 sort.Int)) ∷ (Each (Var 4 sort.List) (Number (pos 0)) (Number (pos 9))) ∷ (Rel relation.Le (Number (pos 1)) (Of unary.Len (Var 4 sort.List))) ∷ (IsPtr (Var 2 sort.Val)) ∷ (IsInt (Var 2 sort.Val)) ∷ (Rel relation.Le (Number (pos 0)) (Of unary.Len (Var 4 sort.List))) ∷ (Rel relation.Ne (Var 0 sort.Int) (Var 1 sort.Int)) ∷ (Rel relation.Le (Var 0 sort.Int) (Var 1 sort.Int)) ∷ []); locals = []; items = ((Data (Var 0 sort.Int) (Var 2 sort.Val) (Var 4 sort.List)) ∷ (Data (Var 1 sort.Int) (Var 3 sort.Val) (Var 5 sort.List)) ∷ []) }); post = (record { opened = []; facts = ([]); locals = []; items = ((Data (Var 0 sort.Int) (Var 2 sort.Val) (Var 4 sort.List)) ∷ (Data (Var 1 sort.Int) (Var 3 sort.Val) (Var 5 sort.List)) ∷ []) }) }) (record { temps = (name_p ∷ []); body = (c.Then (c.Return None) c.End) }) (s.Then 1 (s.Law name_band_lo ((Named name_s) ∷ (Number (pos 7)) ∷ []) ([])) s.NoBlock (s.Then 2 (s.Return ([]) ([]) ([])) s.NoBlock s.End)) ≡ Accepted
unfolding computing
edges_206 = refl

edges_207 : body_verdict (record { predicates = ([]); specs = ((record { is_void = true; name = name_f; params = (name_p ∷ []); vars = ((name_s, sort.Int) ∷ (name_t, sort.Int) ∷ (name_v, sort.Val) ∷ (name_w, sort.Val) ∷ (name_k, sort.List) ∷ (name_m, sort.List) ∷ []); pre = (record { opened = []; facts = ((Rel relation.Le (Number (pos 0)) (Var 0 sort.Int)) ∷ (Each (Var 4 sort.List) (Number (pos 0)) (Number (pos 9))) ∷ (Rel relation.Le (Number (pos 1)) (Of unary.Len (Var 4 sort.List))) ∷ (IsPtr (Var 2 sort.Val)) ∷ (IsInt (Var 2 sort.Val)) ∷ (Rel relation.Le (Number (pos 0)) (Of unary.Len (Var 4 sort.List))) ∷ (Rel relation.Ne (Var 0 sort.Int) (Var 1 sort.Int)) ∷ (Rel relation.Le (Var 0 sort.Int) (Var 1 sort.Int)) ∷ []); locals = []; items = ((Data (Var 0 sort.Int) (Var 2 sort.Val) (Var 4 sort.List)) ∷ (Data (Var 1 sort.Int) (Var 3 sort.Val) (Var 5 sort.List)) ∷ []) }); post = (record { opened = []; facts = ([]); locals = []; items = ((Data (Var 0 sort.Int) (Var 2 sort.Val) (Var 4 sort.List)) ∷ (Data (Var 1 sort.Int) (Var 3 sort.Val) (Var 5 sort.List)) ∷ []) }) }) ∷ []) }) (record { is_void = true; name = name_f; params = (name_p ∷ []); vars = ((name_s, sort.Int) ∷ (name_t, sort.Int) ∷ (name_v, sort.Val) ∷ (name_w, sort.Val) ∷ (name_k, sort.List) ∷ (name_m, sort.List) ∷ []); pre = (record { opened = []; facts = ((Rel relation.Le (Number (pos 0)) (Var 0 sort.Int)) ∷ (Each (Var 4 sort.List) (Number (pos 0)) (Number (pos 9))) ∷ (Rel relation.Le (Number (pos 1)) (Of unary.Len (Var 4 sort.List))) ∷ (IsPtr (Var 2 sort.Val)) ∷ (IsInt (Var 2 sort.Val)) ∷ (Rel relation.Le (Number (pos 0)) (Of unary.Len (Var 4 sort.List))) ∷ (Rel relation.Ne (Var 0 sort.Int) (Var 1 sort.Int)) ∷ (Rel relation.Le (Var 0 sort.Int) (Var 1 sort.Int)) ∷ []); locals = []; items = ((Data (Var 0 sort.Int) (Var 2 sort.Val) (Var 4 sort.List)) ∷ (Data (Var 1 sort.Int) (Var 3 sort.Val) (Var 5 sort.List)) ∷ []) }); post = (record { opened = []; facts = ([]); locals = []; items = ((Data (Var 0 sort.Int) (Var 2 sort.Val) (Var 4 sort.List)) ∷ (Data (Var 1 sort.Int) (Var 3 sort.Val) (Var 5 sort.List)) ∷ []) }) }) (record { temps = (name_p ∷ []); body = (c.Then (c.Return None) c.End) }) (s.Then 1 (s.Law name_ne_lt ((Named name_s) ∷ (Named name_t) ∷ []) ([])) s.NoBlock (s.Then 2 (s.Return ([]) ([]) ([])) s.NoBlock s.End)) ≡ Accepted
unfolding computing
edges_207 = refl

edges_208 : body_verdict (record { predicates = ([]); specs = ((record { is_void = true; name = name_f; params = (name_p ∷ []); vars = ((name_s, sort.Int) ∷ (name_t, sort.Int) ∷ (name_v, sort.Val) ∷ (name_w, sort.Val) ∷ (name_k, sort.List) ∷ (name_m, sort.List) ∷ []); pre = (record { opened = []; facts = ((Rel relation.Le (Number (pos 0)) (Var 0 sort.Int)) ∷ (Each (Var 4 sort.List) (Number (pos 0)) (Number (pos 9))) ∷ (Rel relation.Le (Number (pos 1)) (Of unary.Len (Var 4 sort.List))) ∷ (IsPtr (Var 2 sort.Val)) ∷ (IsInt (Var 2 sort.Val)) ∷ (Rel relation.Le (Number (pos 0)) (Of unary.Len (Var 4 sort.List))) ∷ (Rel relation.Ne (Var 0 sort.Int) (Var 1 sort.Int)) ∷ (Rel relation.Le (Var 0 sort.Int) (Var 1 sort.Int)) ∷ []); locals = []; items = ((Data (Var 0 sort.Int) (Var 2 sort.Val) (Var 4 sort.List)) ∷ (Data (Var 1 sort.Int) (Var 3 sort.Val) (Var 5 sort.List)) ∷ []) }); post = (record { opened = []; facts = ([]); locals = []; items = ((Data (Var 0 sort.Int) (Var 2 sort.Val) (Var 4 sort.List)) ∷ (Data (Var 1 sort.Int) (Var 3 sort.Val) (Var 5 sort.List)) ∷ []) }) }) ∷ []) }) (record { is_void = true; name = name_f; params = (name_p ∷ []); vars = ((name_s, sort.Int) ∷ (name_t, sort.Int) ∷ (name_v, sort.Val) ∷ (name_w, sort.Val) ∷ (name_k, sort.List) ∷ (name_m, sort.List) ∷ []); pre = (record { opened = []; facts = ((Rel relation.Le (Number (pos 0)) (Var 0 sort.Int)) ∷ (Each (Var 4 sort.List) (Number (pos 0)) (Number (pos 9))) ∷ (Rel relation.Le (Number (pos 1)) (Of unary.Len (Var 4 sort.List))) ∷ (IsPtr (Var 2 sort.Val)) ∷ (IsInt (Var 2 sort.Val)) ∷ (Rel relation.Le (Number (pos 0)) (Of unary.Len (Var 4 sort.List))) ∷ (Rel relation.Ne (Var 0 sort.Int) (Var 1 sort.Int)) ∷ (Rel relation.Le (Var 0 sort.Int) (Var 1 sort.Int)) ∷ []); locals = []; items = ((Data (Var 0 sort.Int) (Var 2 sort.Val) (Var 4 sort.List)) ∷ (Data (Var 1 sort.Int) (Var 3 sort.Val) (Var 5 sort.List)) ∷ []) }); post = (record { opened = []; facts = ([]); locals = []; items = ((Data (Var 0 sort.Int) (Var 2 sort.Val) (Var 4 sort.List)) ∷ (Data (Var 1 sort.Int) (Var 3 sort.Val) (Var 5 sort.List)) ∷ []) }) }) (record { temps = (name_p ∷ []); body = (c.Then (c.Return None) c.End) }) (s.Then 1 (s.Law name_lt_one ((Named name_s) ∷ (Named name_t) ∷ []) ([])) s.NoBlock (s.Then 2 (s.Return ([]) ([]) ([])) s.NoBlock s.End)) ≡ (RefusedAt 1 26 3)
unfolding computing
edges_208 = refl

edges_209 : body_verdict (record { predicates = ([]); specs = ((record { is_void = true; name = name_f; params = (name_p ∷ []); vars = ((name_s, sort.Int) ∷ (name_t, sort.Int) ∷ (name_v, sort.Val) ∷ (name_w, sort.Val) ∷ (name_k, sort.List) ∷ (name_m, sort.List) ∷ []); pre = (record { opened = []; facts = ((Rel relation.Le (Number (pos 0)) (Var 0 sort.Int)) ∷ (Each (Var 4 sort.List) (Number (pos 0)) (Number (pos 9))) ∷ (Rel relation.Le (Number (pos 1)) (Of unary.Len (Var 4 sort.List))) ∷ (IsPtr (Var 2 sort.Val)) ∷ (IsInt (Var 2 sort.Val)) ∷ (Rel relation.Le (Number (pos 0)) (Of unary.Len (Var 4 sort.List))) ∷ (Rel relation.Ne (Var 0 sort.Int) (Var 1 sort.Int)) ∷ (Rel relation.Le (Var 0 sort.Int) (Var 1 sort.Int)) ∷ []); locals = []; items = ((Data (Var 0 sort.Int) (Var 2 sort.Val) (Var 4 sort.List)) ∷ (Data (Var 1 sort.Int) (Var 3 sort.Val) (Var 5 sort.List)) ∷ []) }); post = (record { opened = []; facts = ([]); locals = []; items = ((Data (Var 0 sort.Int) (Var 2 sort.Val) (Var 4 sort.List)) ∷ (Data (Var 1 sort.Int) (Var 3 sort.Val) (Var 5 sort.List)) ∷ []) }) }) ∷ []) }) (record { is_void = true; name = name_f; params = (name_p ∷ []); vars = ((name_s, sort.Int) ∷ (name_t, sort.Int) ∷ (name_v, sort.Val) ∷ (name_w, sort.Val) ∷ (name_k, sort.List) ∷ (name_m, sort.List) ∷ []); pre = (record { opened = []; facts = ((Rel relation.Le (Number (pos 0)) (Var 0 sort.Int)) ∷ (Each (Var 4 sort.List) (Number (pos 0)) (Number (pos 9))) ∷ (Rel relation.Le (Number (pos 1)) (Of unary.Len (Var 4 sort.List))) ∷ (IsPtr (Var 2 sort.Val)) ∷ (IsInt (Var 2 sort.Val)) ∷ (Rel relation.Le (Number (pos 0)) (Of unary.Len (Var 4 sort.List))) ∷ (Rel relation.Ne (Var 0 sort.Int) (Var 1 sort.Int)) ∷ (Rel relation.Le (Var 0 sort.Int) (Var 1 sort.Int)) ∷ []); locals = []; items = ((Data (Var 0 sort.Int) (Var 2 sort.Val) (Var 4 sort.List)) ∷ (Data (Var 1 sort.Int) (Var 3 sort.Val) (Var 5 sort.List)) ∷ []) }); post = (record { opened = []; facts = ([]); locals = []; items = ((Data (Var 0 sort.Int) (Var 2 sort.Val) (Var 4 sort.List)) ∷ (Data (Var 1 sort.Int) (Var 3 sort.Val) (Var 5 sort.List)) ∷ []) }) }) (record { temps = (name_p ∷ []); body = (c.Then (c.Return None) c.End) }) (s.Then 1 (s.Law name_eq_zero ((Named name_s) ∷ (Named name_t) ∷ []) ([])) s.NoBlock (s.Then 2 (s.Return ([]) ([]) ([])) s.NoBlock s.End)) ≡ Accepted
unfolding computing
edges_209 = refl

edges_210 : body_verdict (record { predicates = ([]); specs = ((record { is_void = true; name = name_f; params = (name_p ∷ []); vars = ((name_s, sort.Int) ∷ (name_t, sort.Int) ∷ (name_v, sort.Val) ∷ (name_w, sort.Val) ∷ (name_k, sort.List) ∷ (name_m, sort.List) ∷ []); pre = (record { opened = []; facts = ((Rel relation.Le (Number (pos 0)) (Var 0 sort.Int)) ∷ (Each (Var 4 sort.List) (Number (pos 0)) (Number (pos 9))) ∷ (Rel relation.Le (Number (pos 1)) (Of unary.Len (Var 4 sort.List))) ∷ (IsPtr (Var 2 sort.Val)) ∷ (IsInt (Var 2 sort.Val)) ∷ (Rel relation.Le (Number (pos 0)) (Of unary.Len (Var 4 sort.List))) ∷ (Rel relation.Ne (Var 0 sort.Int) (Var 1 sort.Int)) ∷ (Rel relation.Le (Var 0 sort.Int) (Var 1 sort.Int)) ∷ []); locals = []; items = ((Data (Var 0 sort.Int) (Var 2 sort.Val) (Var 4 sort.List)) ∷ (Data (Var 1 sort.Int) (Var 3 sort.Val) (Var 5 sort.List)) ∷ []) }); post = (record { opened = []; facts = ([]); locals = []; items = ((Data (Var 0 sort.Int) (Var 2 sort.Val) (Var 4 sort.List)) ∷ (Data (Var 1 sort.Int) (Var 3 sort.Val) (Var 5 sort.List)) ∷ []) }) }) ∷ []) }) (record { is_void = true; name = name_f; params = (name_p ∷ []); vars = ((name_s, sort.Int) ∷ (name_t, sort.Int) ∷ (name_v, sort.Val) ∷ (name_w, sort.Val) ∷ (name_k, sort.List) ∷ (name_m, sort.List) ∷ []); pre = (record { opened = []; facts = ((Rel relation.Le (Number (pos 0)) (Var 0 sort.Int)) ∷ (Each (Var 4 sort.List) (Number (pos 0)) (Number (pos 9))) ∷ (Rel relation.Le (Number (pos 1)) (Of unary.Len (Var 4 sort.List))) ∷ (IsPtr (Var 2 sort.Val)) ∷ (IsInt (Var 2 sort.Val)) ∷ (Rel relation.Le (Number (pos 0)) (Of unary.Len (Var 4 sort.List))) ∷ (Rel relation.Ne (Var 0 sort.Int) (Var 1 sort.Int)) ∷ (Rel relation.Le (Var 0 sort.Int) (Var 1 sort.Int)) ∷ []); locals = []; items = ((Data (Var 0 sort.Int) (Var 2 sort.Val) (Var 4 sort.List)) ∷ (Data (Var 1 sort.Int) (Var 3 sort.Val) (Var 5 sort.List)) ∷ []) }); post = (record { opened = []; facts = ([]); locals = []; items = ((Data (Var 0 sort.Int) (Var 2 sort.Val) (Var 4 sort.List)) ∷ (Data (Var 1 sort.Int) (Var 3 sort.Val) (Var 5 sort.List)) ∷ []) }) }) (record { temps = (name_p ∷ []); body = (c.Then (c.Return None) c.End) }) (s.Then 1 (s.Law name_len_upd ((Named name_k) ∷ (Named name_s) ∷ (Named name_v) ∷ []) ([])) s.NoBlock (s.Then 2 (s.Return ([]) ([]) ([])) s.NoBlock s.End)) ≡ Accepted
unfolding computing
edges_210 = refl

edges_211 : body_verdict (record { predicates = ([]); specs = ((record { is_void = true; name = name_f; params = (name_p ∷ []); vars = ((name_s, sort.Int) ∷ (name_t, sort.Int) ∷ (name_v, sort.Val) ∷ (name_w, sort.Val) ∷ (name_k, sort.List) ∷ (name_m, sort.List) ∷ []); pre = (record { opened = []; facts = ((Rel relation.Le (Number (pos 0)) (Var 0 sort.Int)) ∷ (Each (Var 4 sort.List) (Number (pos 0)) (Number (pos 9))) ∷ (Rel relation.Le (Number (pos 1)) (Of unary.Len (Var 4 sort.List))) ∷ (IsPtr (Var 2 sort.Val)) ∷ (IsInt (Var 2 sort.Val)) ∷ (Rel relation.Le (Number (pos 0)) (Of unary.Len (Var 4 sort.List))) ∷ (Rel relation.Ne (Var 0 sort.Int) (Var 1 sort.Int)) ∷ (Rel relation.Le (Var 0 sort.Int) (Var 1 sort.Int)) ∷ []); locals = []; items = ((Data (Var 0 sort.Int) (Var 2 sort.Val) (Var 4 sort.List)) ∷ (Data (Var 1 sort.Int) (Var 3 sort.Val) (Var 5 sort.List)) ∷ []) }); post = (record { opened = []; facts = ([]); locals = []; items = ((Data (Var 0 sort.Int) (Var 2 sort.Val) (Var 4 sort.List)) ∷ (Data (Var 1 sort.Int) (Var 3 sort.Val) (Var 5 sort.List)) ∷ []) }) }) ∷ []) }) (record { is_void = true; name = name_f; params = (name_p ∷ []); vars = ((name_s, sort.Int) ∷ (name_t, sort.Int) ∷ (name_v, sort.Val) ∷ (name_w, sort.Val) ∷ (name_k, sort.List) ∷ (name_m, sort.List) ∷ []); pre = (record { opened = []; facts = ((Rel relation.Le (Number (pos 0)) (Var 0 sort.Int)) ∷ (Each (Var 4 sort.List) (Number (pos 0)) (Number (pos 9))) ∷ (Rel relation.Le (Number (pos 1)) (Of unary.Len (Var 4 sort.List))) ∷ (IsPtr (Var 2 sort.Val)) ∷ (IsInt (Var 2 sort.Val)) ∷ (Rel relation.Le (Number (pos 0)) (Of unary.Len (Var 4 sort.List))) ∷ (Rel relation.Ne (Var 0 sort.Int) (Var 1 sort.Int)) ∷ (Rel relation.Le (Var 0 sort.Int) (Var 1 sort.Int)) ∷ []); locals = []; items = ((Data (Var 0 sort.Int) (Var 2 sort.Val) (Var 4 sort.List)) ∷ (Data (Var 1 sort.Int) (Var 3 sort.Val) (Var 5 sort.List)) ∷ []) }); post = (record { opened = []; facts = ([]); locals = []; items = ((Data (Var 0 sort.Int) (Var 2 sort.Val) (Var 4 sort.List)) ∷ (Data (Var 1 sort.Int) (Var 3 sort.Val) (Var 5 sort.List)) ∷ []) }) }) (record { temps = (name_p ∷ []); body = (c.Then (c.Return None) c.End) }) (s.Then 1 (s.Law name_len_rep ((Named name_v) ∷ (Number (pos 3)) ∷ []) ([])) s.NoBlock (s.Then 2 (s.Return ([]) ([]) ([])) s.NoBlock s.End)) ≡ Accepted
unfolding computing
edges_211 = refl

edges_212 : body_verdict (record { predicates = ([]); specs = ((record { is_void = true; name = name_f; params = (name_p ∷ []); vars = ((name_s, sort.Int) ∷ (name_t, sort.Int) ∷ (name_v, sort.Val) ∷ (name_w, sort.Val) ∷ (name_k, sort.List) ∷ (name_m, sort.List) ∷ []); pre = (record { opened = []; facts = ((Rel relation.Le (Number (pos 0)) (Var 0 sort.Int)) ∷ (Each (Var 4 sort.List) (Number (pos 0)) (Number (pos 9))) ∷ (Rel relation.Le (Number (pos 1)) (Of unary.Len (Var 4 sort.List))) ∷ (IsPtr (Var 2 sort.Val)) ∷ (IsInt (Var 2 sort.Val)) ∷ (Rel relation.Le (Number (pos 0)) (Of unary.Len (Var 4 sort.List))) ∷ (Rel relation.Ne (Var 0 sort.Int) (Var 1 sort.Int)) ∷ (Rel relation.Le (Var 0 sort.Int) (Var 1 sort.Int)) ∷ []); locals = []; items = ((Data (Var 0 sort.Int) (Var 2 sort.Val) (Var 4 sort.List)) ∷ (Data (Var 1 sort.Int) (Var 3 sort.Val) (Var 5 sort.List)) ∷ []) }); post = (record { opened = []; facts = ([]); locals = []; items = ((Data (Var 0 sort.Int) (Var 2 sort.Val) (Var 4 sort.List)) ∷ (Data (Var 1 sort.Int) (Var 3 sort.Val) (Var 5 sort.List)) ∷ []) }) }) ∷ []) }) (record { is_void = true; name = name_f; params = (name_p ∷ []); vars = ((name_s, sort.Int) ∷ (name_t, sort.Int) ∷ (name_v, sort.Val) ∷ (name_w, sort.Val) ∷ (name_k, sort.List) ∷ (name_m, sort.List) ∷ []); pre = (record { opened = []; facts = ((Rel relation.Le (Number (pos 0)) (Var 0 sort.Int)) ∷ (Each (Var 4 sort.List) (Number (pos 0)) (Number (pos 9))) ∷ (Rel relation.Le (Number (pos 1)) (Of unary.Len (Var 4 sort.List))) ∷ (IsPtr (Var 2 sort.Val)) ∷ (IsInt (Var 2 sort.Val)) ∷ (Rel relation.Le (Number (pos 0)) (Of unary.Len (Var 4 sort.List))) ∷ (Rel relation.Ne (Var 0 sort.Int) (Var 1 sort.Int)) ∷ (Rel relation.Le (Var 0 sort.Int) (Var 1 sort.Int)) ∷ []); locals = []; items = ((Data (Var 0 sort.Int) (Var 2 sort.Val) (Var 4 sort.List)) ∷ (Data (Var 1 sort.Int) (Var 3 sort.Val) (Var 5 sort.List)) ∷ []) }); post = (record { opened = []; facts = ([]); locals = []; items = ((Data (Var 0 sort.Int) (Var 2 sort.Val) (Var 4 sort.List)) ∷ (Data (Var 1 sort.Int) (Var 3 sort.Val) (Var 5 sort.List)) ∷ []) }) }) (record { temps = (name_p ∷ []); body = (c.Then (c.Return None) c.End) }) (s.Then 1 (s.Law name_nth_rep ((Named name_v) ∷ (Number (pos 30)) ∷ (Number (pos 2)) ∷ []) ([])) s.NoBlock (s.Then 2 (s.Return ([]) ([]) ([])) s.NoBlock s.End)) ≡ Accepted
unfolding computing
edges_212 = refl

edges_213 : body_verdict (record { predicates = ([]); specs = ((record { is_void = true; name = name_f; params = (name_p ∷ []); vars = ((name_s, sort.Int) ∷ (name_t, sort.Int) ∷ (name_v, sort.Val) ∷ (name_w, sort.Val) ∷ (name_k, sort.List) ∷ (name_m, sort.List) ∷ []); pre = (record { opened = []; facts = ((Rel relation.Le (Number (pos 0)) (Var 0 sort.Int)) ∷ (Each (Var 4 sort.List) (Number (pos 0)) (Number (pos 9))) ∷ (Rel relation.Le (Number (pos 1)) (Of unary.Len (Var 4 sort.List))) ∷ (IsPtr (Var 2 sort.Val)) ∷ (IsInt (Var 2 sort.Val)) ∷ (Rel relation.Le (Number (pos 0)) (Of unary.Len (Var 4 sort.List))) ∷ (Rel relation.Ne (Var 0 sort.Int) (Var 1 sort.Int)) ∷ (Rel relation.Le (Var 0 sort.Int) (Var 1 sort.Int)) ∷ []); locals = []; items = ((Data (Var 0 sort.Int) (Var 2 sort.Val) (Var 4 sort.List)) ∷ (Data (Var 1 sort.Int) (Var 3 sort.Val) (Var 5 sort.List)) ∷ []) }); post = (record { opened = []; facts = ([]); locals = []; items = ((Data (Var 0 sort.Int) (Var 2 sort.Val) (Var 4 sort.List)) ∷ (Data (Var 1 sort.Int) (Var 3 sort.Val) (Var 5 sort.List)) ∷ []) }) }) ∷ []) }) (record { is_void = true; name = name_f; params = (name_p ∷ []); vars = ((name_s, sort.Int) ∷ (name_t, sort.Int) ∷ (name_v, sort.Val) ∷ (name_w, sort.Val) ∷ (name_k, sort.List) ∷ (name_m, sort.List) ∷ []); pre = (record { opened = []; facts = ((Rel relation.Le (Number (pos 0)) (Var 0 sort.Int)) ∷ (Each (Var 4 sort.List) (Number (pos 0)) (Number (pos 9))) ∷ (Rel relation.Le (Number (pos 1)) (Of unary.Len (Var 4 sort.List))) ∷ (IsPtr (Var 2 sort.Val)) ∷ (IsInt (Var 2 sort.Val)) ∷ (Rel relation.Le (Number (pos 0)) (Of unary.Len (Var 4 sort.List))) ∷ (Rel relation.Ne (Var 0 sort.Int) (Var 1 sort.Int)) ∷ (Rel relation.Le (Var 0 sort.Int) (Var 1 sort.Int)) ∷ []); locals = []; items = ((Data (Var 0 sort.Int) (Var 2 sort.Val) (Var 4 sort.List)) ∷ (Data (Var 1 sort.Int) (Var 3 sort.Val) (Var 5 sort.List)) ∷ []) }); post = (record { opened = []; facts = ([]); locals = []; items = ((Data (Var 0 sort.Int) (Var 2 sort.Val) (Var 4 sort.List)) ∷ (Data (Var 1 sort.Int) (Var 3 sort.Val) (Var 5 sort.List)) ∷ []) }) }) (record { temps = (name_p ∷ []); body = (c.Then (c.Return None) c.End) }) (s.Then 1 (s.Law name_cons_head ((Named name_v) ∷ (Named name_k) ∷ (Named name_w) ∷ (Named name_m) ∷ []) ([])) s.NoBlock (s.Then 2 (s.Return ([]) ([]) ([])) s.NoBlock s.End)) ≡ (RefusedAt 1 26 3)
unfolding computing
edges_213 = refl

edges_214 : body_verdict (record { predicates = ([]); specs = ((record { is_void = true; name = name_f; params = (name_p ∷ []); vars = ((name_s, sort.Int) ∷ (name_t, sort.Int) ∷ (name_v, sort.Val) ∷ (name_w, sort.Val) ∷ (name_k, sort.List) ∷ (name_m, sort.List) ∷ []); pre = (record { opened = []; facts = ((Rel relation.Le (Number (pos 0)) (Var 0 sort.Int)) ∷ (Each (Var 4 sort.List) (Number (pos 0)) (Number (pos 9))) ∷ (Rel relation.Le (Number (pos 1)) (Of unary.Len (Var 4 sort.List))) ∷ (IsPtr (Var 2 sort.Val)) ∷ (IsInt (Var 2 sort.Val)) ∷ (Rel relation.Le (Number (pos 0)) (Of unary.Len (Var 4 sort.List))) ∷ (Rel relation.Ne (Var 0 sort.Int) (Var 1 sort.Int)) ∷ (Rel relation.Le (Var 0 sort.Int) (Var 1 sort.Int)) ∷ []); locals = []; items = ((Data (Var 0 sort.Int) (Var 2 sort.Val) (Var 4 sort.List)) ∷ (Data (Var 1 sort.Int) (Var 3 sort.Val) (Var 5 sort.List)) ∷ []) }); post = (record { opened = []; facts = ([]); locals = []; items = ((Data (Var 0 sort.Int) (Var 2 sort.Val) (Var 4 sort.List)) ∷ (Data (Var 1 sort.Int) (Var 3 sort.Val) (Var 5 sort.List)) ∷ []) }) }) ∷ []) }) (record { is_void = true; name = name_f; params = (name_p ∷ []); vars = ((name_s, sort.Int) ∷ (name_t, sort.Int) ∷ (name_v, sort.Val) ∷ (name_w, sort.Val) ∷ (name_k, sort.List) ∷ (name_m, sort.List) ∷ []); pre = (record { opened = []; facts = ((Rel relation.Le (Number (pos 0)) (Var 0 sort.Int)) ∷ (Each (Var 4 sort.List) (Number (pos 0)) (Number (pos 9))) ∷ (Rel relation.Le (Number (pos 1)) (Of unary.Len (Var 4 sort.List))) ∷ (IsPtr (Var 2 sort.Val)) ∷ (IsInt (Var 2 sort.Val)) ∷ (Rel relation.Le (Number (pos 0)) (Of unary.Len (Var 4 sort.List))) ∷ (Rel relation.Ne (Var 0 sort.Int) (Var 1 sort.Int)) ∷ (Rel relation.Le (Var 0 sort.Int) (Var 1 sort.Int)) ∷ []); locals = []; items = ((Data (Var 0 sort.Int) (Var 2 sort.Val) (Var 4 sort.List)) ∷ (Data (Var 1 sort.Int) (Var 3 sort.Val) (Var 5 sort.List)) ∷ []) }); post = (record { opened = []; facts = ([]); locals = []; items = ((Data (Var 0 sort.Int) (Var 2 sort.Val) (Var 4 sort.List)) ∷ (Data (Var 1 sort.Int) (Var 3 sort.Val) (Var 5 sort.List)) ∷ []) }) }) (record { temps = (name_p ∷ []); body = (c.Then (c.Return None) c.End) }) (s.Then 1 (s.Law name_off_inj ((Named name_v) ∷ (Named name_s) ∷ (Named name_t) ∷ []) ([])) s.NoBlock (s.Then 2 (s.Return ([]) ([]) ([])) s.NoBlock s.End)) ≡ (RefusedAt 1 26 3)
unfolding computing
edges_214 = refl

edges_215 : body_verdict (record { predicates = ([]); specs = ((record { is_void = true; name = name_f; params = (name_p ∷ []); vars = ((name_s, sort.Int) ∷ (name_t, sort.Int) ∷ (name_v, sort.Val) ∷ (name_w, sort.Val) ∷ (name_k, sort.List) ∷ (name_m, sort.List) ∷ []); pre = (record { opened = []; facts = ((Rel relation.Le (Number (pos 0)) (Var 0 sort.Int)) ∷ (Each (Var 4 sort.List) (Number (pos 0)) (Number (pos 9))) ∷ (Rel relation.Le (Number (pos 1)) (Of unary.Len (Var 4 sort.List))) ∷ (IsPtr (Var 2 sort.Val)) ∷ (IsInt (Var 2 sort.Val)) ∷ (Rel relation.Le (Number (pos 0)) (Of unary.Len (Var 4 sort.List))) ∷ (Rel relation.Ne (Var 0 sort.Int) (Var 1 sort.Int)) ∷ (Rel relation.Le (Var 0 sort.Int) (Var 1 sort.Int)) ∷ []); locals = []; items = ((Data (Var 0 sort.Int) (Var 2 sort.Val) (Var 4 sort.List)) ∷ (Data (Var 1 sort.Int) (Var 3 sort.Val) (Var 5 sort.List)) ∷ []) }); post = (record { opened = []; facts = ([]); locals = []; items = ((Data (Var 0 sort.Int) (Var 2 sort.Val) (Var 4 sort.List)) ∷ (Data (Var 1 sort.Int) (Var 3 sort.Val) (Var 5 sort.List)) ∷ []) }) }) ∷ []) }) (record { is_void = true; name = name_f; params = (name_p ∷ []); vars = ((name_s, sort.Int) ∷ (name_t, sort.Int) ∷ (name_v, sort.Val) ∷ (name_w, sort.Val) ∷ (name_k, sort.List) ∷ (name_m, sort.List) ∷ []); pre = (record { opened = []; facts = ((Rel relation.Le (Number (pos 0)) (Var 0 sort.Int)) ∷ (Each (Var 4 sort.List) (Number (pos 0)) (Number (pos 9))) ∷ (Rel relation.Le (Number (pos 1)) (Of unary.Len (Var 4 sort.List))) ∷ (IsPtr (Var 2 sort.Val)) ∷ (IsInt (Var 2 sort.Val)) ∷ (Rel relation.Le (Number (pos 0)) (Of unary.Len (Var 4 sort.List))) ∷ (Rel relation.Ne (Var 0 sort.Int) (Var 1 sort.Int)) ∷ (Rel relation.Le (Var 0 sort.Int) (Var 1 sort.Int)) ∷ []); locals = []; items = ((Data (Var 0 sort.Int) (Var 2 sort.Val) (Var 4 sort.List)) ∷ (Data (Var 1 sort.Int) (Var 3 sort.Val) (Var 5 sort.List)) ∷ []) }); post = (record { opened = []; facts = ([]); locals = []; items = ((Data (Var 0 sort.Int) (Var 2 sort.Val) (Var 4 sort.List)) ∷ (Data (Var 1 sort.Int) (Var 3 sort.Val) (Var 5 sort.List)) ∷ []) }) }) (record { temps = (name_p ∷ []); body = (c.Then (c.Return None) c.End) }) (s.Then 1 (s.Law name_vu_inj ((Number (pos 3)) ∷ (Number (pos 3)) ∷ []) ([])) s.NoBlock (s.Then 2 (s.Return ([]) ([]) ([])) s.NoBlock s.End)) ≡ Accepted
unfolding computing
edges_215 = refl

edges_216 : body_verdict (record { predicates = ([]); specs = ((record { is_void = true; name = name_f; params = (name_p ∷ []); vars = ((name_s, sort.Int) ∷ (name_t, sort.Int) ∷ (name_v, sort.Val) ∷ (name_w, sort.Val) ∷ (name_k, sort.List) ∷ (name_m, sort.List) ∷ []); pre = (record { opened = []; facts = ((Rel relation.Le (Number (pos 0)) (Var 0 sort.Int)) ∷ (Each (Var 4 sort.List) (Number (pos 0)) (Number (pos 9))) ∷ (Rel relation.Le (Number (pos 1)) (Of unary.Len (Var 4 sort.List))) ∷ (IsPtr (Var 2 sort.Val)) ∷ (IsInt (Var 2 sort.Val)) ∷ (Rel relation.Le (Number (pos 0)) (Of unary.Len (Var 4 sort.List))) ∷ (Rel relation.Ne (Var 0 sort.Int) (Var 1 sort.Int)) ∷ (Rel relation.Le (Var 0 sort.Int) (Var 1 sort.Int)) ∷ []); locals = []; items = ((Data (Var 0 sort.Int) (Var 2 sort.Val) (Var 4 sort.List)) ∷ (Data (Var 1 sort.Int) (Var 3 sort.Val) (Var 5 sort.List)) ∷ []) }); post = (record { opened = []; facts = ([]); locals = []; items = ((Data (Var 0 sort.Int) (Var 2 sort.Val) (Var 4 sort.List)) ∷ (Data (Var 1 sort.Int) (Var 3 sort.Val) (Var 5 sort.List)) ∷ []) }) }) ∷ []) }) (record { is_void = true; name = name_f; params = (name_p ∷ []); vars = ((name_s, sort.Int) ∷ (name_t, sort.Int) ∷ (name_v, sort.Val) ∷ (name_w, sort.Val) ∷ (name_k, sort.List) ∷ (name_m, sort.List) ∷ []); pre = (record { opened = []; facts = ((Rel relation.Le (Number (pos 0)) (Var 0 sort.Int)) ∷ (Each (Var 4 sort.List) (Number (pos 0)) (Number (pos 9))) ∷ (Rel relation.Le (Number (pos 1)) (Of unary.Len (Var 4 sort.List))) ∷ (IsPtr (Var 2 sort.Val)) ∷ (IsInt (Var 2 sort.Val)) ∷ (Rel relation.Le (Number (pos 0)) (Of unary.Len (Var 4 sort.List))) ∷ (Rel relation.Ne (Var 0 sort.Int) (Var 1 sort.Int)) ∷ (Rel relation.Le (Var 0 sort.Int) (Var 1 sort.Int)) ∷ []); locals = []; items = ((Data (Var 0 sort.Int) (Var 2 sort.Val) (Var 4 sort.List)) ∷ (Data (Var 1 sort.Int) (Var 3 sort.Val) (Var 5 sort.List)) ∷ []) }); post = (record { opened = []; facts = ([]); locals = []; items = ((Data (Var 0 sort.Int) (Var 2 sort.Val) (Var 4 sort.List)) ∷ (Data (Var 1 sort.Int) (Var 3 sort.Val) (Var 5 sort.List)) ∷ []) }) }) (record { temps = (name_p ∷ []); body = (c.Then (c.Return None) c.End) }) (s.Then 1 (s.Law name_vi_inj ((Number (pos 3)) ∷ (Number (pos 3)) ∷ []) ([])) s.NoBlock (s.Then 2 (s.Return ([]) ([]) ([])) s.NoBlock s.End)) ≡ Accepted
unfolding computing
edges_216 = refl

edges_217 : body_verdict (record { predicates = ([]); specs = ((record { is_void = true; name = name_f; params = (name_p ∷ []); vars = ((name_s, sort.Int) ∷ (name_t, sort.Int) ∷ (name_v, sort.Val) ∷ (name_w, sort.Val) ∷ (name_k, sort.List) ∷ (name_m, sort.List) ∷ []); pre = (record { opened = []; facts = ((Rel relation.Le (Number (pos 0)) (Var 0 sort.Int)) ∷ (Each (Var 4 sort.List) (Number (pos 0)) (Number (pos 9))) ∷ (Rel relation.Le (Number (pos 1)) (Of unary.Len (Var 4 sort.List))) ∷ (IsPtr (Var 2 sort.Val)) ∷ (IsInt (Var 2 sort.Val)) ∷ (Rel relation.Le (Number (pos 0)) (Of unary.Len (Var 4 sort.List))) ∷ (Rel relation.Ne (Var 0 sort.Int) (Var 1 sort.Int)) ∷ (Rel relation.Le (Var 0 sort.Int) (Var 1 sort.Int)) ∷ []); locals = []; items = ((Data (Var 0 sort.Int) (Var 2 sort.Val) (Var 4 sort.List)) ∷ (Data (Var 1 sort.Int) (Var 3 sort.Val) (Var 5 sort.List)) ∷ []) }); post = (record { opened = []; facts = ([]); locals = []; items = ((Data (Var 0 sort.Int) (Var 2 sort.Val) (Var 4 sort.List)) ∷ (Data (Var 1 sort.Int) (Var 3 sort.Val) (Var 5 sort.List)) ∷ []) }) }) ∷ []) }) (record { is_void = true; name = name_f; params = (name_p ∷ []); vars = ((name_s, sort.Int) ∷ (name_t, sort.Int) ∷ (name_v, sort.Val) ∷ (name_w, sort.Val) ∷ (name_k, sort.List) ∷ (name_m, sort.List) ∷ []); pre = (record { opened = []; facts = ((Rel relation.Le (Number (pos 0)) (Var 0 sort.Int)) ∷ (Each (Var 4 sort.List) (Number (pos 0)) (Number (pos 9))) ∷ (Rel relation.Le (Number (pos 1)) (Of unary.Len (Var 4 sort.List))) ∷ (IsPtr (Var 2 sort.Val)) ∷ (IsInt (Var 2 sort.Val)) ∷ (Rel relation.Le (Number (pos 0)) (Of unary.Len (Var 4 sort.List))) ∷ (Rel relation.Ne (Var 0 sort.Int) (Var 1 sort.Int)) ∷ (Rel relation.Le (Var 0 sort.Int) (Var 1 sort.Int)) ∷ []); locals = []; items = ((Data (Var 0 sort.Int) (Var 2 sort.Val) (Var 4 sort.List)) ∷ (Data (Var 1 sort.Int) (Var 3 sort.Val) (Var 5 sort.List)) ∷ []) }); post = (record { opened = []; facts = ([]); locals = []; items = ((Data (Var 0 sort.Int) (Var 2 sort.Val) (Var 4 sort.List)) ∷ (Data (Var 1 sort.Int) (Var 3 sort.Val) (Var 5 sort.List)) ∷ []) }) }) (record { temps = (name_p ∷ []); body = (c.Then (c.Return None) c.End) }) (s.Then 1 (s.Law name_num_vi ((Number (pos 3)) ∷ []) ([])) s.NoBlock (s.Then 2 (s.Return ([]) ([]) ([])) s.NoBlock s.End)) ≡ Accepted
unfolding computing
edges_217 = refl

edges_218 : body_verdict (record { predicates = ([]); specs = ((record { is_void = true; name = name_f; params = (name_p ∷ []); vars = ((name_s, sort.Int) ∷ (name_t, sort.Int) ∷ (name_v, sort.Val) ∷ (name_w, sort.Val) ∷ (name_k, sort.List) ∷ (name_m, sort.List) ∷ []); pre = (record { opened = []; facts = ((Rel relation.Le (Number (pos 0)) (Var 0 sort.Int)) ∷ (Each (Var 4 sort.List) (Number (pos 0)) (Number (pos 9))) ∷ (Rel relation.Le (Number (pos 1)) (Of unary.Len (Var 4 sort.List))) ∷ (IsPtr (Var 2 sort.Val)) ∷ (IsInt (Var 2 sort.Val)) ∷ (Rel relation.Le (Number (pos 0)) (Of unary.Len (Var 4 sort.List))) ∷ (Rel relation.Ne (Var 0 sort.Int) (Var 1 sort.Int)) ∷ (Rel relation.Le (Var 0 sort.Int) (Var 1 sort.Int)) ∷ []); locals = []; items = ((Data (Var 0 sort.Int) (Var 2 sort.Val) (Var 4 sort.List)) ∷ (Data (Var 1 sort.Int) (Var 3 sort.Val) (Var 5 sort.List)) ∷ []) }); post = (record { opened = []; facts = ([]); locals = []; items = ((Data (Var 0 sort.Int) (Var 2 sort.Val) (Var 4 sort.List)) ∷ (Data (Var 1 sort.Int) (Var 3 sort.Val) (Var 5 sort.List)) ∷ []) }) }) ∷ []) }) (record { is_void = true; name = name_f; params = (name_p ∷ []); vars = ((name_s, sort.Int) ∷ (name_t, sort.Int) ∷ (name_v, sort.Val) ∷ (name_w, sort.Val) ∷ (name_k, sort.List) ∷ (name_m, sort.List) ∷ []); pre = (record { opened = []; facts = ((Rel relation.Le (Number (pos 0)) (Var 0 sort.Int)) ∷ (Each (Var 4 sort.List) (Number (pos 0)) (Number (pos 9))) ∷ (Rel relation.Le (Number (pos 1)) (Of unary.Len (Var 4 sort.List))) ∷ (IsPtr (Var 2 sort.Val)) ∷ (IsInt (Var 2 sort.Val)) ∷ (Rel relation.Le (Number (pos 0)) (Of unary.Len (Var 4 sort.List))) ∷ (Rel relation.Ne (Var 0 sort.Int) (Var 1 sort.Int)) ∷ (Rel relation.Le (Var 0 sort.Int) (Var 1 sort.Int)) ∷ []); locals = []; items = ((Data (Var 0 sort.Int) (Var 2 sort.Val) (Var 4 sort.List)) ∷ (Data (Var 1 sort.Int) (Var 3 sort.Val) (Var 5 sort.List)) ∷ []) }); post = (record { opened = []; facts = ([]); locals = []; items = ((Data (Var 0 sort.Int) (Var 2 sort.Val) (Var 4 sort.List)) ∷ (Data (Var 1 sort.Int) (Var 3 sort.Val) (Var 5 sort.List)) ∷ []) }) }) (record { temps = (name_p ∷ []); body = (c.Then (c.Return None) c.End) }) (s.Then 1 (s.Law name_unum_vi ((Named name_s) ∷ []) ([])) s.NoBlock (s.Then 2 (s.Return ([]) ([]) ([])) s.NoBlock s.End)) ≡ (RefusedAt 1 26 3)
unfolding computing
edges_218 = refl

edges_219 : body_verdict (record { predicates = ([]); specs = ((record { is_void = true; name = name_f; params = (name_p ∷ []); vars = ((name_s, sort.Int) ∷ (name_t, sort.Int) ∷ (name_v, sort.Val) ∷ (name_w, sort.Val) ∷ (name_k, sort.List) ∷ (name_m, sort.List) ∷ []); pre = (record { opened = []; facts = ((Rel relation.Le (Number (pos 0)) (Var 0 sort.Int)) ∷ (Each (Var 4 sort.List) (Number (pos 0)) (Number (pos 9))) ∷ (Rel relation.Le (Number (pos 1)) (Of unary.Len (Var 4 sort.List))) ∷ (IsPtr (Var 2 sort.Val)) ∷ (IsInt (Var 2 sort.Val)) ∷ (Rel relation.Le (Number (pos 0)) (Of unary.Len (Var 4 sort.List))) ∷ (Rel relation.Ne (Var 0 sort.Int) (Var 1 sort.Int)) ∷ (Rel relation.Le (Var 0 sort.Int) (Var 1 sort.Int)) ∷ []); locals = []; items = ((Data (Var 0 sort.Int) (Var 2 sort.Val) (Var 4 sort.List)) ∷ (Data (Var 1 sort.Int) (Var 3 sort.Val) (Var 5 sort.List)) ∷ []) }); post = (record { opened = []; facts = ([]); locals = []; items = ((Data (Var 0 sort.Int) (Var 2 sort.Val) (Var 4 sort.List)) ∷ (Data (Var 1 sort.Int) (Var 3 sort.Val) (Var 5 sort.List)) ∷ []) }) }) ∷ []) }) (record { is_void = true; name = name_f; params = (name_p ∷ []); vars = ((name_s, sort.Int) ∷ (name_t, sort.Int) ∷ (name_v, sort.Val) ∷ (name_w, sort.Val) ∷ (name_k, sort.List) ∷ (name_m, sort.List) ∷ []); pre = (record { opened = []; facts = ((Rel relation.Le (Number (pos 0)) (Var 0 sort.Int)) ∷ (Each (Var 4 sort.List) (Number (pos 0)) (Number (pos 9))) ∷ (Rel relation.Le (Number (pos 1)) (Of unary.Len (Var 4 sort.List))) ∷ (IsPtr (Var 2 sort.Val)) ∷ (IsInt (Var 2 sort.Val)) ∷ (Rel relation.Le (Number (pos 0)) (Of unary.Len (Var 4 sort.List))) ∷ (Rel relation.Ne (Var 0 sort.Int) (Var 1 sort.Int)) ∷ (Rel relation.Le (Var 0 sort.Int) (Var 1 sort.Int)) ∷ []); locals = []; items = ((Data (Var 0 sort.Int) (Var 2 sort.Val) (Var 4 sort.List)) ∷ (Data (Var 1 sort.Int) (Var 3 sort.Val) (Var 5 sort.List)) ∷ []) }); post = (record { opened = []; facts = ([]); locals = []; items = ((Data (Var 0 sort.Int) (Var 2 sort.Val) (Var 4 sort.List)) ∷ (Data (Var 1 sort.Int) (Var 3 sort.Val) (Var 5 sort.List)) ∷ []) }) }) (record { temps = (name_p ∷ []); body = (c.Then (c.Return None) c.End) }) (s.Then 1 (s.Law name_sub_one ((Named name_k) ∷ (Named name_s) ∷ []) ([])) s.NoBlock (s.Then 2 (s.Return ([]) ([]) ([])) s.NoBlock s.End)) ≡ (RefusedAt 1 26 3)
unfolding computing
edges_219 = refl

edges_220 : body_verdict (record { predicates = ([]); specs = ((record { is_void = true; name = name_f; params = (name_p ∷ []); vars = ((name_s, sort.Int) ∷ (name_t, sort.Int) ∷ (name_v, sort.Val) ∷ (name_w, sort.Val) ∷ (name_k, sort.List) ∷ (name_m, sort.List) ∷ []); pre = (record { opened = []; facts = ((Rel relation.Le (Number (pos 0)) (Var 0 sort.Int)) ∷ (Each (Var 4 sort.List) (Number (pos 0)) (Number (pos 9))) ∷ (Rel relation.Le (Number (pos 1)) (Of unary.Len (Var 4 sort.List))) ∷ (IsPtr (Var 2 sort.Val)) ∷ (IsInt (Var 2 sort.Val)) ∷ (Rel relation.Le (Number (pos 0)) (Of unary.Len (Var 4 sort.List))) ∷ (Rel relation.Ne (Var 0 sort.Int) (Var 1 sort.Int)) ∷ (Rel relation.Le (Var 0 sort.Int) (Var 1 sort.Int)) ∷ []); locals = []; items = ((Data (Var 0 sort.Int) (Var 2 sort.Val) (Var 4 sort.List)) ∷ (Data (Var 1 sort.Int) (Var 3 sort.Val) (Var 5 sort.List)) ∷ []) }); post = (record { opened = []; facts = ([]); locals = []; items = ((Data (Var 0 sort.Int) (Var 2 sort.Val) (Var 4 sort.List)) ∷ (Data (Var 1 sort.Int) (Var 3 sort.Val) (Var 5 sort.List)) ∷ []) }) }) ∷ []) }) (record { is_void = true; name = name_f; params = (name_p ∷ []); vars = ((name_s, sort.Int) ∷ (name_t, sort.Int) ∷ (name_v, sort.Val) ∷ (name_w, sort.Val) ∷ (name_k, sort.List) ∷ (name_m, sort.List) ∷ []); pre = (record { opened = []; facts = ((Rel relation.Le (Number (pos 0)) (Var 0 sort.Int)) ∷ (Each (Var 4 sort.List) (Number (pos 0)) (Number (pos 9))) ∷ (Rel relation.Le (Number (pos 1)) (Of unary.Len (Var 4 sort.List))) ∷ (IsPtr (Var 2 sort.Val)) ∷ (IsInt (Var 2 sort.Val)) ∷ (Rel relation.Le (Number (pos 0)) (Of unary.Len (Var 4 sort.List))) ∷ (Rel relation.Ne (Var 0 sort.Int) (Var 1 sort.Int)) ∷ (Rel relation.Le (Var 0 sort.Int) (Var 1 sort.Int)) ∷ []); locals = []; items = ((Data (Var 0 sort.Int) (Var 2 sort.Val) (Var 4 sort.List)) ∷ (Data (Var 1 sort.Int) (Var 3 sort.Val) (Var 5 sort.List)) ∷ []) }); post = (record { opened = []; facts = ([]); locals = []; items = ((Data (Var 0 sort.Int) (Var 2 sort.Val) (Var 4 sort.List)) ∷ (Data (Var 1 sort.Int) (Var 3 sort.Val) (Var 5 sort.List)) ∷ []) }) }) (record { temps = (name_p ∷ []); body = (c.Then (c.Return None) c.End) }) (s.Then 1 (s.Law name_each_hi ((Named name_k) ∷ (Number (pos 0)) ∷ (Number (pos 9)) ∷ (Named name_s) ∷ []) ([])) s.NoBlock (s.Then 2 (s.Return ([]) ([]) ([])) s.NoBlock s.End)) ≡ (RefusedAt 1 26 3)
unfolding computing
edges_220 = refl

edges_221 : body_verdict (record { predicates = ([]); specs = ((record { is_void = true; name = name_f; params = (name_p ∷ []); vars = ((name_s, sort.Int) ∷ (name_t, sort.Int) ∷ (name_v, sort.Val) ∷ (name_w, sort.Val) ∷ (name_k, sort.List) ∷ (name_m, sort.List) ∷ []); pre = (record { opened = []; facts = ((Rel relation.Le (Number (pos 0)) (Var 0 sort.Int)) ∷ (Each (Var 4 sort.List) (Number (pos 0)) (Number (pos 9))) ∷ []); locals = []; items = ((Data (Var 0 sort.Int) (Var 2 sort.Val) (Var 4 sort.List)) ∷ (Data (Var 1 sort.Int) (Var 3 sort.Val) (Var 5 sort.List)) ∷ []) }); post = (record { opened = []; facts = ((Rel relation.Le (Of2 binary.Mul (Of2 binary.Quot (Var 0 sort.Int) (Number (pos 2))) (Number (pos 2))) (Var 0 sort.Int)) ∷ []); locals = []; items = ((Data (Var 0 sort.Int) (Var 2 sort.Val) (Var 4 sort.List)) ∷ (Data (Var 1 sort.Int) (Var 3 sort.Val) (Var 5 sort.List)) ∷ []) }) }) ∷ []) }) (record { is_void = true; name = name_f; params = (name_p ∷ []); vars = ((name_s, sort.Int) ∷ (name_t, sort.Int) ∷ (name_v, sort.Val) ∷ (name_w, sort.Val) ∷ (name_k, sort.List) ∷ (name_m, sort.List) ∷ []); pre = (record { opened = []; facts = ((Rel relation.Le (Number (pos 0)) (Var 0 sort.Int)) ∷ (Each (Var 4 sort.List) (Number (pos 0)) (Number (pos 9))) ∷ []); locals = []; items = ((Data (Var 0 sort.Int) (Var 2 sort.Val) (Var 4 sort.List)) ∷ (Data (Var 1 sort.Int) (Var 3 sort.Val) (Var 5 sort.List)) ∷ []) }); post = (record { opened = []; facts = ((Rel relation.Le (Of2 binary.Mul (Of2 binary.Quot (Var 0 sort.Int) (Number (pos 2))) (Number (pos 2))) (Var 0 sort.Int)) ∷ []); locals = []; items = ((Data (Var 0 sort.Int) (Var 2 sort.Val) (Var 4 sort.List)) ∷ (Data (Var 1 sort.Int) (Var 3 sort.Val) (Var 5 sort.List)) ∷ []) }) }) (record { temps = (name_p ∷ []); body = (c.Then (c.Return None) c.End) }) (s.Then 1 (s.Law name_quot_lo ((Named name_s) ∷ (Number (pos 2)) ∷ []) ([])) s.NoBlock (s.Then 2 (s.Return ([]) ([]) ([])) s.NoBlock s.End)) ≡ Accepted
unfolding computing
edges_221 = refl

edges_222 : body_verdict (record { predicates = ([]); specs = ((record { is_void = true; name = name_f; params = (name_p ∷ []); vars = ((name_s, sort.Int) ∷ (name_t, sort.Int) ∷ (name_v, sort.Val) ∷ (name_w, sort.Val) ∷ (name_k, sort.List) ∷ (name_m, sort.List) ∷ []); pre = (record { opened = []; facts = ((Rel relation.Le (Number (pos 0)) (Var 0 sort.Int)) ∷ (Each (Var 4 sort.List) (Number (pos 0)) (Number (pos 9))) ∷ []); locals = []; items = ((Data (Var 0 sort.Int) (Var 2 sort.Val) (Var 4 sort.List)) ∷ (Data (Var 1 sort.Int) (Var 3 sort.Val) (Var 5 sort.List)) ∷ []) }); post = (record { opened = []; facts = ((Rel relation.Le (Of2 binary.Mul (Of2 binary.Quot (Var 0 sort.Int) (Number (pos 2))) (Number (pos 2))) (Var 0 sort.Int)) ∷ []); locals = []; items = ((Data (Var 0 sort.Int) (Var 2 sort.Val) (Var 4 sort.List)) ∷ (Data (Var 1 sort.Int) (Var 3 sort.Val) (Var 5 sort.List)) ∷ []) }) }) ∷ []) }) (record { is_void = true; name = name_f; params = (name_p ∷ []); vars = ((name_s, sort.Int) ∷ (name_t, sort.Int) ∷ (name_v, sort.Val) ∷ (name_w, sort.Val) ∷ (name_k, sort.List) ∷ (name_m, sort.List) ∷ []); pre = (record { opened = []; facts = ((Rel relation.Le (Number (pos 0)) (Var 0 sort.Int)) ∷ (Each (Var 4 sort.List) (Number (pos 0)) (Number (pos 9))) ∷ []); locals = []; items = ((Data (Var 0 sort.Int) (Var 2 sort.Val) (Var 4 sort.List)) ∷ (Data (Var 1 sort.Int) (Var 3 sort.Val) (Var 5 sort.List)) ∷ []) }); post = (record { opened = []; facts = ((Rel relation.Le (Of2 binary.Mul (Of2 binary.Quot (Var 0 sort.Int) (Number (pos 2))) (Number (pos 2))) (Var 0 sort.Int)) ∷ []); locals = []; items = ((Data (Var 0 sort.Int) (Var 2 sort.Val) (Var 4 sort.List)) ∷ (Data (Var 1 sort.Int) (Var 3 sort.Val) (Var 5 sort.List)) ∷ []) }) }) (record { temps = (name_p ∷ []); body = (c.Then (c.Return None) c.End) }) (s.Then 1 (s.Law name_quot_hi ((Named name_s) ∷ (Number (pos 2)) ∷ []) ([])) s.NoBlock (s.Then 2 (s.Return ([]) ([]) ([])) s.NoBlock s.End)) ≡ (RefusedAt 2 9 3)
unfolding computing
edges_222 = refl

edges_223 : body_verdict (record { predicates = ([]); specs = ((record { is_void = true; name = name_f; params = (name_p ∷ []); vars = ((name_s, sort.Int) ∷ (name_t, sort.Int) ∷ (name_v, sort.Val) ∷ (name_w, sort.Val) ∷ (name_k, sort.List) ∷ (name_m, sort.List) ∷ []); pre = (record { opened = []; facts = ((Rel relation.Le (Number (pos 0)) (Var 0 sort.Int)) ∷ (Each (Var 4 sort.List) (Number (pos 0)) (Number (pos 9))) ∷ []); locals = []; items = ((Data (Var 0 sort.Int) (Var 2 sort.Val) (Var 4 sort.List)) ∷ (Data (Var 1 sort.Int) (Var 3 sort.Val) (Var 5 sort.List)) ∷ []) }); post = (record { opened = []; facts = ((Rel relation.Le (Of2 binary.Mul (Of2 binary.Quot (Var 0 sort.Int) (Number (pos 2))) (Number (pos 2))) (Var 0 sort.Int)) ∷ []); locals = []; items = ((Data (Var 0 sort.Int) (Var 2 sort.Val) (Var 4 sort.List)) ∷ (Data (Var 1 sort.Int) (Var 3 sort.Val) (Var 5 sort.List)) ∷ []) }) }) ∷ []) }) (record { is_void = true; name = name_f; params = (name_p ∷ []); vars = ((name_s, sort.Int) ∷ (name_t, sort.Int) ∷ (name_v, sort.Val) ∷ (name_w, sort.Val) ∷ (name_k, sort.List) ∷ (name_m, sort.List) ∷ []); pre = (record { opened = []; facts = ((Rel relation.Le (Number (pos 0)) (Var 0 sort.Int)) ∷ (Each (Var 4 sort.List) (Number (pos 0)) (Number (pos 9))) ∷ []); locals = []; items = ((Data (Var 0 sort.Int) (Var 2 sort.Val) (Var 4 sort.List)) ∷ (Data (Var 1 sort.Int) (Var 3 sort.Val) (Var 5 sort.List)) ∷ []) }); post = (record { opened = []; facts = ((Rel relation.Le (Of2 binary.Mul (Of2 binary.Quot (Var 0 sort.Int) (Number (pos 2))) (Number (pos 2))) (Var 0 sort.Int)) ∷ []); locals = []; items = ((Data (Var 0 sort.Int) (Var 2 sort.Val) (Var 4 sort.List)) ∷ (Data (Var 1 sort.Int) (Var 3 sort.Val) (Var 5 sort.List)) ∷ []) }) }) (record { temps = (name_p ∷ []); body = (c.Then (c.Return None) c.End) }) (s.Then 1 (s.Law name_rem_eq ((Named name_s) ∷ (Number (pos 2)) ∷ []) ([])) s.NoBlock (s.Then 2 (s.Return ([]) ([]) ([])) s.NoBlock s.End)) ≡ (RefusedAt 2 9 3)
unfolding computing
edges_223 = refl

edges_224 : body_verdict (record { predicates = ([]); specs = ((record { is_void = true; name = name_f; params = (name_p ∷ []); vars = ((name_s, sort.Int) ∷ (name_t, sort.Int) ∷ (name_v, sort.Val) ∷ (name_w, sort.Val) ∷ (name_k, sort.List) ∷ (name_m, sort.List) ∷ []); pre = (record { opened = []; facts = ((Rel relation.Le (Number (pos 0)) (Var 0 sort.Int)) ∷ (Each (Var 4 sort.List) (Number (pos 0)) (Number (pos 9))) ∷ []); locals = []; items = ((Data (Var 0 sort.Int) (Var 2 sort.Val) (Var 4 sort.List)) ∷ (Data (Var 1 sort.Int) (Var 3 sort.Val) (Var 5 sort.List)) ∷ []) }); post = (record { opened = []; facts = ((Rel relation.Le (Of2 binary.Mul (Of2 binary.Quot (Var 0 sort.Int) (Number (pos 2))) (Number (pos 2))) (Var 0 sort.Int)) ∷ []); locals = []; items = ((Data (Var 0 sort.Int) (Var 2 sort.Val) (Var 4 sort.List)) ∷ (Data (Var 1 sort.Int) (Var 3 sort.Val) (Var 5 sort.List)) ∷ []) }) }) ∷ []) }) (record { is_void = true; name = name_f; params = (name_p ∷ []); vars = ((name_s, sort.Int) ∷ (name_t, sort.Int) ∷ (name_v, sort.Val) ∷ (name_w, sort.Val) ∷ (name_k, sort.List) ∷ (name_m, sort.List) ∷ []); pre = (record { opened = []; facts = ((Rel relation.Le (Number (pos 0)) (Var 0 sort.Int)) ∷ (Each (Var 4 sort.List) (Number (pos 0)) (Number (pos 9))) ∷ []); locals = []; items = ((Data (Var 0 sort.Int) (Var 2 sort.Val) (Var 4 sort.List)) ∷ (Data (Var 1 sort.Int) (Var 3 sort.Val) (Var 5 sort.List)) ∷ []) }); post = (record { opened = []; facts = ((Rel relation.Le (Of2 binary.Mul (Of2 binary.Quot (Var 0 sort.Int) (Number (pos 2))) (Number (pos 2))) (Var 0 sort.Int)) ∷ []); locals = []; items = ((Data (Var 0 sort.Int) (Var 2 sort.Val) (Var 4 sort.List)) ∷ (Data (Var 1 sort.Int) (Var 3 sort.Val) (Var 5 sort.List)) ∷ []) }) }) (record { temps = (name_p ∷ []); body = (c.Then (c.Return None) c.End) }) (s.Then 1 (s.Law name_sum_lo ((Named name_k) ∷ (Number (pos 0)) ∷ (Number (pos 9)) ∷ []) ([])) s.NoBlock (s.Then 2 (s.Return ([]) ([]) ([])) s.NoBlock s.End)) ≡ (RefusedAt 2 9 3)
unfolding computing
edges_224 = refl

edges_225 : body_verdict (record { predicates = ([]); specs = ((record { is_void = true; name = name_f; params = (name_p ∷ []); vars = ((name_s, sort.Int) ∷ (name_t, sort.Int) ∷ (name_v, sort.Val) ∷ (name_w, sort.Val) ∷ (name_k, sort.List) ∷ (name_m, sort.List) ∷ []); pre = (record { opened = []; facts = ((Rel relation.Le (Number (pos 0)) (Var 0 sort.Int)) ∷ (Each (Var 4 sort.List) (Number (pos 0)) (Number (pos 9))) ∷ []); locals = []; items = ((Data (Var 0 sort.Int) (Var 2 sort.Val) (Var 4 sort.List)) ∷ (Data (Var 1 sort.Int) (Var 3 sort.Val) (Var 5 sort.List)) ∷ []) }); post = (record { opened = []; facts = ((Rel relation.Le (Of2 binary.Mul (Of2 binary.Quot (Var 0 sort.Int) (Number (pos 2))) (Number (pos 2))) (Var 0 sort.Int)) ∷ []); locals = []; items = ((Data (Var 0 sort.Int) (Var 2 sort.Val) (Var 4 sort.List)) ∷ (Data (Var 1 sort.Int) (Var 3 sort.Val) (Var 5 sort.List)) ∷ []) }) }) ∷ []) }) (record { is_void = true; name = name_f; params = (name_p ∷ []); vars = ((name_s, sort.Int) ∷ (name_t, sort.Int) ∷ (name_v, sort.Val) ∷ (name_w, sort.Val) ∷ (name_k, sort.List) ∷ (name_m, sort.List) ∷ []); pre = (record { opened = []; facts = ((Rel relation.Le (Number (pos 0)) (Var 0 sort.Int)) ∷ (Each (Var 4 sort.List) (Number (pos 0)) (Number (pos 9))) ∷ []); locals = []; items = ((Data (Var 0 sort.Int) (Var 2 sort.Val) (Var 4 sort.List)) ∷ (Data (Var 1 sort.Int) (Var 3 sort.Val) (Var 5 sort.List)) ∷ []) }); post = (record { opened = []; facts = ((Rel relation.Le (Of2 binary.Mul (Of2 binary.Quot (Var 0 sort.Int) (Number (pos 2))) (Number (pos 2))) (Var 0 sort.Int)) ∷ []); locals = []; items = ((Data (Var 0 sort.Int) (Var 2 sort.Val) (Var 4 sort.List)) ∷ (Data (Var 1 sort.Int) (Var 3 sort.Val) (Var 5 sort.List)) ∷ []) }) }) (record { temps = (name_p ∷ []); body = (c.Then (c.Return None) c.End) }) (s.Then 1 (s.Law name_sum_hi ((Named name_k) ∷ (Number (pos 0)) ∷ (Number (pos 9)) ∷ []) ([])) s.NoBlock (s.Then 2 (s.Return ([]) ([]) ([])) s.NoBlock s.End)) ≡ (RefusedAt 2 9 3)
unfolding computing
edges_225 = refl

edges_226 : body_verdict (record { predicates = ([]); specs = ((record { is_void = true; name = name_f; params = (name_p ∷ []); vars = ((name_s, sort.Int) ∷ (name_t, sort.Int) ∷ (name_v, sort.Val) ∷ (name_w, sort.Val) ∷ (name_k, sort.List) ∷ (name_m, sort.List) ∷ []); pre = (record { opened = []; facts = ((Rel relation.Le (Number (pos 0)) (Var 0 sort.Int)) ∷ (Each (Var 4 sort.List) (Number (pos 0)) (Number (pos 9))) ∷ []); locals = []; items = ((Data (Var 0 sort.Int) (Var 2 sort.Val) (Var 4 sort.List)) ∷ (Data (Var 1 sort.Int) (Var 3 sort.Val) (Var 5 sort.List)) ∷ []) }); post = (record { opened = []; facts = ((Rel relation.Le (Var 0 sort.Int) (Of2 binary.Add (Of2 binary.Mul (Number (pos 2)) (Of2 binary.Quot (Var 0 sort.Int) (Number (pos 2)))) (Number (pos 1)))) ∷ []); locals = []; items = ((Data (Var 0 sort.Int) (Var 2 sort.Val) (Var 4 sort.List)) ∷ (Data (Var 1 sort.Int) (Var 3 sort.Val) (Var 5 sort.List)) ∷ []) }) }) ∷ []) }) (record { is_void = true; name = name_f; params = (name_p ∷ []); vars = ((name_s, sort.Int) ∷ (name_t, sort.Int) ∷ (name_v, sort.Val) ∷ (name_w, sort.Val) ∷ (name_k, sort.List) ∷ (name_m, sort.List) ∷ []); pre = (record { opened = []; facts = ((Rel relation.Le (Number (pos 0)) (Var 0 sort.Int)) ∷ (Each (Var 4 sort.List) (Number (pos 0)) (Number (pos 9))) ∷ []); locals = []; items = ((Data (Var 0 sort.Int) (Var 2 sort.Val) (Var 4 sort.List)) ∷ (Data (Var 1 sort.Int) (Var 3 sort.Val) (Var 5 sort.List)) ∷ []) }); post = (record { opened = []; facts = ((Rel relation.Le (Var 0 sort.Int) (Of2 binary.Add (Of2 binary.Mul (Number (pos 2)) (Of2 binary.Quot (Var 0 sort.Int) (Number (pos 2)))) (Number (pos 1)))) ∷ []); locals = []; items = ((Data (Var 0 sort.Int) (Var 2 sort.Val) (Var 4 sort.List)) ∷ (Data (Var 1 sort.Int) (Var 3 sort.Val) (Var 5 sort.List)) ∷ []) }) }) (record { temps = (name_p ∷ []); body = (c.Then (c.Return None) c.End) }) (s.Then 1 (s.Law name_quot_lo ((Named name_s) ∷ (Number (pos 2)) ∷ []) ([])) s.NoBlock (s.Then 2 (s.Return ([]) ([]) ([])) s.NoBlock s.End)) ≡ (RefusedAt 2 9 3)
unfolding computing
edges_226 = refl

edges_227 : body_verdict (record { predicates = ([]); specs = ((record { is_void = true; name = name_f; params = (name_p ∷ []); vars = ((name_s, sort.Int) ∷ (name_t, sort.Int) ∷ (name_v, sort.Val) ∷ (name_w, sort.Val) ∷ (name_k, sort.List) ∷ (name_m, sort.List) ∷ []); pre = (record { opened = []; facts = ((Rel relation.Le (Number (pos 0)) (Var 0 sort.Int)) ∷ (Each (Var 4 sort.List) (Number (pos 0)) (Number (pos 9))) ∷ []); locals = []; items = ((Data (Var 0 sort.Int) (Var 2 sort.Val) (Var 4 sort.List)) ∷ (Data (Var 1 sort.Int) (Var 3 sort.Val) (Var 5 sort.List)) ∷ []) }); post = (record { opened = []; facts = ((Rel relation.Le (Var 0 sort.Int) (Of2 binary.Add (Of2 binary.Mul (Number (pos 2)) (Of2 binary.Quot (Var 0 sort.Int) (Number (pos 2)))) (Number (pos 1)))) ∷ []); locals = []; items = ((Data (Var 0 sort.Int) (Var 2 sort.Val) (Var 4 sort.List)) ∷ (Data (Var 1 sort.Int) (Var 3 sort.Val) (Var 5 sort.List)) ∷ []) }) }) ∷ []) }) (record { is_void = true; name = name_f; params = (name_p ∷ []); vars = ((name_s, sort.Int) ∷ (name_t, sort.Int) ∷ (name_v, sort.Val) ∷ (name_w, sort.Val) ∷ (name_k, sort.List) ∷ (name_m, sort.List) ∷ []); pre = (record { opened = []; facts = ((Rel relation.Le (Number (pos 0)) (Var 0 sort.Int)) ∷ (Each (Var 4 sort.List) (Number (pos 0)) (Number (pos 9))) ∷ []); locals = []; items = ((Data (Var 0 sort.Int) (Var 2 sort.Val) (Var 4 sort.List)) ∷ (Data (Var 1 sort.Int) (Var 3 sort.Val) (Var 5 sort.List)) ∷ []) }); post = (record { opened = []; facts = ((Rel relation.Le (Var 0 sort.Int) (Of2 binary.Add (Of2 binary.Mul (Number (pos 2)) (Of2 binary.Quot (Var 0 sort.Int) (Number (pos 2)))) (Number (pos 1)))) ∷ []); locals = []; items = ((Data (Var 0 sort.Int) (Var 2 sort.Val) (Var 4 sort.List)) ∷ (Data (Var 1 sort.Int) (Var 3 sort.Val) (Var 5 sort.List)) ∷ []) }) }) (record { temps = (name_p ∷ []); body = (c.Then (c.Return None) c.End) }) (s.Then 1 (s.Law name_quot_hi ((Named name_s) ∷ (Number (pos 2)) ∷ []) ([])) s.NoBlock (s.Then 2 (s.Return ([]) ([]) ([])) s.NoBlock s.End)) ≡ Accepted
unfolding computing
edges_227 = refl

edges_228 : body_verdict (record { predicates = ([]); specs = ((record { is_void = true; name = name_f; params = (name_p ∷ []); vars = ((name_s, sort.Int) ∷ (name_t, sort.Int) ∷ (name_v, sort.Val) ∷ (name_w, sort.Val) ∷ (name_k, sort.List) ∷ (name_m, sort.List) ∷ []); pre = (record { opened = []; facts = ((Rel relation.Le (Number (pos 0)) (Var 0 sort.Int)) ∷ (Each (Var 4 sort.List) (Number (pos 0)) (Number (pos 9))) ∷ []); locals = []; items = ((Data (Var 0 sort.Int) (Var 2 sort.Val) (Var 4 sort.List)) ∷ (Data (Var 1 sort.Int) (Var 3 sort.Val) (Var 5 sort.List)) ∷ []) }); post = (record { opened = []; facts = ((Rel relation.Le (Var 0 sort.Int) (Of2 binary.Add (Of2 binary.Mul (Number (pos 2)) (Of2 binary.Quot (Var 0 sort.Int) (Number (pos 2)))) (Number (pos 1)))) ∷ []); locals = []; items = ((Data (Var 0 sort.Int) (Var 2 sort.Val) (Var 4 sort.List)) ∷ (Data (Var 1 sort.Int) (Var 3 sort.Val) (Var 5 sort.List)) ∷ []) }) }) ∷ []) }) (record { is_void = true; name = name_f; params = (name_p ∷ []); vars = ((name_s, sort.Int) ∷ (name_t, sort.Int) ∷ (name_v, sort.Val) ∷ (name_w, sort.Val) ∷ (name_k, sort.List) ∷ (name_m, sort.List) ∷ []); pre = (record { opened = []; facts = ((Rel relation.Le (Number (pos 0)) (Var 0 sort.Int)) ∷ (Each (Var 4 sort.List) (Number (pos 0)) (Number (pos 9))) ∷ []); locals = []; items = ((Data (Var 0 sort.Int) (Var 2 sort.Val) (Var 4 sort.List)) ∷ (Data (Var 1 sort.Int) (Var 3 sort.Val) (Var 5 sort.List)) ∷ []) }); post = (record { opened = []; facts = ((Rel relation.Le (Var 0 sort.Int) (Of2 binary.Add (Of2 binary.Mul (Number (pos 2)) (Of2 binary.Quot (Var 0 sort.Int) (Number (pos 2)))) (Number (pos 1)))) ∷ []); locals = []; items = ((Data (Var 0 sort.Int) (Var 2 sort.Val) (Var 4 sort.List)) ∷ (Data (Var 1 sort.Int) (Var 3 sort.Val) (Var 5 sort.List)) ∷ []) }) }) (record { temps = (name_p ∷ []); body = (c.Then (c.Return None) c.End) }) (s.Then 1 (s.Law name_rem_eq ((Named name_s) ∷ (Number (pos 2)) ∷ []) ([])) s.NoBlock (s.Then 2 (s.Return ([]) ([]) ([])) s.NoBlock s.End)) ≡ (RefusedAt 2 9 3)
unfolding computing
edges_228 = refl

edges_229 : body_verdict (record { predicates = ([]); specs = ((record { is_void = true; name = name_f; params = (name_p ∷ []); vars = ((name_s, sort.Int) ∷ (name_t, sort.Int) ∷ (name_v, sort.Val) ∷ (name_w, sort.Val) ∷ (name_k, sort.List) ∷ (name_m, sort.List) ∷ []); pre = (record { opened = []; facts = ((Rel relation.Le (Number (pos 0)) (Var 0 sort.Int)) ∷ (Each (Var 4 sort.List) (Number (pos 0)) (Number (pos 9))) ∷ []); locals = []; items = ((Data (Var 0 sort.Int) (Var 2 sort.Val) (Var 4 sort.List)) ∷ (Data (Var 1 sort.Int) (Var 3 sort.Val) (Var 5 sort.List)) ∷ []) }); post = (record { opened = []; facts = ((Rel relation.Le (Var 0 sort.Int) (Of2 binary.Add (Of2 binary.Mul (Number (pos 2)) (Of2 binary.Quot (Var 0 sort.Int) (Number (pos 2)))) (Number (pos 1)))) ∷ []); locals = []; items = ((Data (Var 0 sort.Int) (Var 2 sort.Val) (Var 4 sort.List)) ∷ (Data (Var 1 sort.Int) (Var 3 sort.Val) (Var 5 sort.List)) ∷ []) }) }) ∷ []) }) (record { is_void = true; name = name_f; params = (name_p ∷ []); vars = ((name_s, sort.Int) ∷ (name_t, sort.Int) ∷ (name_v, sort.Val) ∷ (name_w, sort.Val) ∷ (name_k, sort.List) ∷ (name_m, sort.List) ∷ []); pre = (record { opened = []; facts = ((Rel relation.Le (Number (pos 0)) (Var 0 sort.Int)) ∷ (Each (Var 4 sort.List) (Number (pos 0)) (Number (pos 9))) ∷ []); locals = []; items = ((Data (Var 0 sort.Int) (Var 2 sort.Val) (Var 4 sort.List)) ∷ (Data (Var 1 sort.Int) (Var 3 sort.Val) (Var 5 sort.List)) ∷ []) }); post = (record { opened = []; facts = ((Rel relation.Le (Var 0 sort.Int) (Of2 binary.Add (Of2 binary.Mul (Number (pos 2)) (Of2 binary.Quot (Var 0 sort.Int) (Number (pos 2)))) (Number (pos 1)))) ∷ []); locals = []; items = ((Data (Var 0 sort.Int) (Var 2 sort.Val) (Var 4 sort.List)) ∷ (Data (Var 1 sort.Int) (Var 3 sort.Val) (Var 5 sort.List)) ∷ []) }) }) (record { temps = (name_p ∷ []); body = (c.Then (c.Return None) c.End) }) (s.Then 1 (s.Law name_sum_lo ((Named name_k) ∷ (Number (pos 0)) ∷ (Number (pos 9)) ∷ []) ([])) s.NoBlock (s.Then 2 (s.Return ([]) ([]) ([])) s.NoBlock s.End)) ≡ (RefusedAt 2 9 3)
unfolding computing
edges_229 = refl

edges_230 : body_verdict (record { predicates = ([]); specs = ((record { is_void = true; name = name_f; params = (name_p ∷ []); vars = ((name_s, sort.Int) ∷ (name_t, sort.Int) ∷ (name_v, sort.Val) ∷ (name_w, sort.Val) ∷ (name_k, sort.List) ∷ (name_m, sort.List) ∷ []); pre = (record { opened = []; facts = ((Rel relation.Le (Number (pos 0)) (Var 0 sort.Int)) ∷ (Each (Var 4 sort.List) (Number (pos 0)) (Number (pos 9))) ∷ []); locals = []; items = ((Data (Var 0 sort.Int) (Var 2 sort.Val) (Var 4 sort.List)) ∷ (Data (Var 1 sort.Int) (Var 3 sort.Val) (Var 5 sort.List)) ∷ []) }); post = (record { opened = []; facts = ((Rel relation.Le (Var 0 sort.Int) (Of2 binary.Add (Of2 binary.Mul (Number (pos 2)) (Of2 binary.Quot (Var 0 sort.Int) (Number (pos 2)))) (Number (pos 1)))) ∷ []); locals = []; items = ((Data (Var 0 sort.Int) (Var 2 sort.Val) (Var 4 sort.List)) ∷ (Data (Var 1 sort.Int) (Var 3 sort.Val) (Var 5 sort.List)) ∷ []) }) }) ∷ []) }) (record { is_void = true; name = name_f; params = (name_p ∷ []); vars = ((name_s, sort.Int) ∷ (name_t, sort.Int) ∷ (name_v, sort.Val) ∷ (name_w, sort.Val) ∷ (name_k, sort.List) ∷ (name_m, sort.List) ∷ []); pre = (record { opened = []; facts = ((Rel relation.Le (Number (pos 0)) (Var 0 sort.Int)) ∷ (Each (Var 4 sort.List) (Number (pos 0)) (Number (pos 9))) ∷ []); locals = []; items = ((Data (Var 0 sort.Int) (Var 2 sort.Val) (Var 4 sort.List)) ∷ (Data (Var 1 sort.Int) (Var 3 sort.Val) (Var 5 sort.List)) ∷ []) }); post = (record { opened = []; facts = ((Rel relation.Le (Var 0 sort.Int) (Of2 binary.Add (Of2 binary.Mul (Number (pos 2)) (Of2 binary.Quot (Var 0 sort.Int) (Number (pos 2)))) (Number (pos 1)))) ∷ []); locals = []; items = ((Data (Var 0 sort.Int) (Var 2 sort.Val) (Var 4 sort.List)) ∷ (Data (Var 1 sort.Int) (Var 3 sort.Val) (Var 5 sort.List)) ∷ []) }) }) (record { temps = (name_p ∷ []); body = (c.Then (c.Return None) c.End) }) (s.Then 1 (s.Law name_sum_hi ((Named name_k) ∷ (Number (pos 0)) ∷ (Number (pos 9)) ∷ []) ([])) s.NoBlock (s.Then 2 (s.Return ([]) ([]) ([])) s.NoBlock s.End)) ≡ (RefusedAt 2 9 3)
unfolding computing
edges_230 = refl

edges_231 : body_verdict (record { predicates = ([]); specs = ((record { is_void = true; name = name_f; params = (name_p ∷ []); vars = ((name_s, sort.Int) ∷ (name_t, sort.Int) ∷ (name_v, sort.Val) ∷ (name_w, sort.Val) ∷ (name_k, sort.List) ∷ (name_m, sort.List) ∷ []); pre = (record { opened = []; facts = ((Rel relation.Le (Number (pos 0)) (Var 0 sort.Int)) ∷ (Each (Var 4 sort.List) (Number (pos 0)) (Number (pos 9))) ∷ []); locals = []; items = ((Data (Var 0 sort.Int) (Var 2 sort.Val) (Var 4 sort.List)) ∷ (Data (Var 1 sort.Int) (Var 3 sort.Val) (Var 5 sort.List)) ∷ []) }); post = (record { opened = []; facts = ((Rel relation.Le (Var 0 sort.Int) (Of2 binary.Add (Of2 binary.Mul (Number (pos 2)) (Of2 binary.Quot (Var 0 sort.Int) (Number (pos 2)))) (Number (pos 2)))) ∷ []); locals = []; items = ((Data (Var 0 sort.Int) (Var 2 sort.Val) (Var 4 sort.List)) ∷ (Data (Var 1 sort.Int) (Var 3 sort.Val) (Var 5 sort.List)) ∷ []) }) }) ∷ []) }) (record { is_void = true; name = name_f; params = (name_p ∷ []); vars = ((name_s, sort.Int) ∷ (name_t, sort.Int) ∷ (name_v, sort.Val) ∷ (name_w, sort.Val) ∷ (name_k, sort.List) ∷ (name_m, sort.List) ∷ []); pre = (record { opened = []; facts = ((Rel relation.Le (Number (pos 0)) (Var 0 sort.Int)) ∷ (Each (Var 4 sort.List) (Number (pos 0)) (Number (pos 9))) ∷ []); locals = []; items = ((Data (Var 0 sort.Int) (Var 2 sort.Val) (Var 4 sort.List)) ∷ (Data (Var 1 sort.Int) (Var 3 sort.Val) (Var 5 sort.List)) ∷ []) }); post = (record { opened = []; facts = ((Rel relation.Le (Var 0 sort.Int) (Of2 binary.Add (Of2 binary.Mul (Number (pos 2)) (Of2 binary.Quot (Var 0 sort.Int) (Number (pos 2)))) (Number (pos 2)))) ∷ []); locals = []; items = ((Data (Var 0 sort.Int) (Var 2 sort.Val) (Var 4 sort.List)) ∷ (Data (Var 1 sort.Int) (Var 3 sort.Val) (Var 5 sort.List)) ∷ []) }) }) (record { temps = (name_p ∷ []); body = (c.Then (c.Return None) c.End) }) (s.Then 1 (s.Law name_quot_lo ((Named name_s) ∷ (Number (pos 2)) ∷ []) ([])) s.NoBlock (s.Then 2 (s.Return ([]) ([]) ([])) s.NoBlock s.End)) ≡ (RefusedAt 2 9 3)
unfolding computing
edges_231 = refl

edges_232 : body_verdict (record { predicates = ([]); specs = ((record { is_void = true; name = name_f; params = (name_p ∷ []); vars = ((name_s, sort.Int) ∷ (name_t, sort.Int) ∷ (name_v, sort.Val) ∷ (name_w, sort.Val) ∷ (name_k, sort.List) ∷ (name_m, sort.List) ∷ []); pre = (record { opened = []; facts = ((Rel relation.Le (Number (pos 0)) (Var 0 sort.Int)) ∷ (Each (Var 4 sort.List) (Number (pos 0)) (Number (pos 9))) ∷ []); locals = []; items = ((Data (Var 0 sort.Int) (Var 2 sort.Val) (Var 4 sort.List)) ∷ (Data (Var 1 sort.Int) (Var 3 sort.Val) (Var 5 sort.List)) ∷ []) }); post = (record { opened = []; facts = ((Rel relation.Le (Var 0 sort.Int) (Of2 binary.Add (Of2 binary.Mul (Number (pos 2)) (Of2 binary.Quot (Var 0 sort.Int) (Number (pos 2)))) (Number (pos 2)))) ∷ []); locals = []; items = ((Data (Var 0 sort.Int) (Var 2 sort.Val) (Var 4 sort.List)) ∷ (Data (Var 1 sort.Int) (Var 3 sort.Val) (Var 5 sort.List)) ∷ []) }) }) ∷ []) }) (record { is_void = true; name = name_f; params = (name_p ∷ []); vars = ((name_s, sort.Int) ∷ (name_t, sort.Int) ∷ (name_v, sort.Val) ∷ (name_w, sort.Val) ∷ (name_k, sort.List) ∷ (name_m, sort.List) ∷ []); pre = (record { opened = []; facts = ((Rel relation.Le (Number (pos 0)) (Var 0 sort.Int)) ∷ (Each (Var 4 sort.List) (Number (pos 0)) (Number (pos 9))) ∷ []); locals = []; items = ((Data (Var 0 sort.Int) (Var 2 sort.Val) (Var 4 sort.List)) ∷ (Data (Var 1 sort.Int) (Var 3 sort.Val) (Var 5 sort.List)) ∷ []) }); post = (record { opened = []; facts = ((Rel relation.Le (Var 0 sort.Int) (Of2 binary.Add (Of2 binary.Mul (Number (pos 2)) (Of2 binary.Quot (Var 0 sort.Int) (Number (pos 2)))) (Number (pos 2)))) ∷ []); locals = []; items = ((Data (Var 0 sort.Int) (Var 2 sort.Val) (Var 4 sort.List)) ∷ (Data (Var 1 sort.Int) (Var 3 sort.Val) (Var 5 sort.List)) ∷ []) }) }) (record { temps = (name_p ∷ []); body = (c.Then (c.Return None) c.End) }) (s.Then 1 (s.Law name_quot_hi ((Named name_s) ∷ (Number (pos 2)) ∷ []) ([])) s.NoBlock (s.Then 2 (s.Return ([]) ([]) ([])) s.NoBlock s.End)) ≡ (RefusedAt 2 9 3)
unfolding computing
edges_232 = refl

edges_233 : body_verdict (record { predicates = ([]); specs = ((record { is_void = true; name = name_f; params = (name_p ∷ []); vars = ((name_s, sort.Int) ∷ (name_t, sort.Int) ∷ (name_v, sort.Val) ∷ (name_w, sort.Val) ∷ (name_k, sort.List) ∷ (name_m, sort.List) ∷ []); pre = (record { opened = []; facts = ((Rel relation.Le (Number (pos 0)) (Var 0 sort.Int)) ∷ (Each (Var 4 sort.List) (Number (pos 0)) (Number (pos 9))) ∷ []); locals = []; items = ((Data (Var 0 sort.Int) (Var 2 sort.Val) (Var 4 sort.List)) ∷ (Data (Var 1 sort.Int) (Var 3 sort.Val) (Var 5 sort.List)) ∷ []) }); post = (record { opened = []; facts = ((Rel relation.Le (Var 0 sort.Int) (Of2 binary.Add (Of2 binary.Mul (Number (pos 2)) (Of2 binary.Quot (Var 0 sort.Int) (Number (pos 2)))) (Number (pos 2)))) ∷ []); locals = []; items = ((Data (Var 0 sort.Int) (Var 2 sort.Val) (Var 4 sort.List)) ∷ (Data (Var 1 sort.Int) (Var 3 sort.Val) (Var 5 sort.List)) ∷ []) }) }) ∷ []) }) (record { is_void = true; name = name_f; params = (name_p ∷ []); vars = ((name_s, sort.Int) ∷ (name_t, sort.Int) ∷ (name_v, sort.Val) ∷ (name_w, sort.Val) ∷ (name_k, sort.List) ∷ (name_m, sort.List) ∷ []); pre = (record { opened = []; facts = ((Rel relation.Le (Number (pos 0)) (Var 0 sort.Int)) ∷ (Each (Var 4 sort.List) (Number (pos 0)) (Number (pos 9))) ∷ []); locals = []; items = ((Data (Var 0 sort.Int) (Var 2 sort.Val) (Var 4 sort.List)) ∷ (Data (Var 1 sort.Int) (Var 3 sort.Val) (Var 5 sort.List)) ∷ []) }); post = (record { opened = []; facts = ((Rel relation.Le (Var 0 sort.Int) (Of2 binary.Add (Of2 binary.Mul (Number (pos 2)) (Of2 binary.Quot (Var 0 sort.Int) (Number (pos 2)))) (Number (pos 2)))) ∷ []); locals = []; items = ((Data (Var 0 sort.Int) (Var 2 sort.Val) (Var 4 sort.List)) ∷ (Data (Var 1 sort.Int) (Var 3 sort.Val) (Var 5 sort.List)) ∷ []) }) }) (record { temps = (name_p ∷ []); body = (c.Then (c.Return None) c.End) }) (s.Then 1 (s.Law name_rem_eq ((Named name_s) ∷ (Number (pos 2)) ∷ []) ([])) s.NoBlock (s.Then 2 (s.Return ([]) ([]) ([])) s.NoBlock s.End)) ≡ (RefusedAt 2 9 3)
unfolding computing
edges_233 = refl

edges_234 : body_verdict (record { predicates = ([]); specs = ((record { is_void = true; name = name_f; params = (name_p ∷ []); vars = ((name_s, sort.Int) ∷ (name_t, sort.Int) ∷ (name_v, sort.Val) ∷ (name_w, sort.Val) ∷ (name_k, sort.List) ∷ (name_m, sort.List) ∷ []); pre = (record { opened = []; facts = ((Rel relation.Le (Number (pos 0)) (Var 0 sort.Int)) ∷ (Each (Var 4 sort.List) (Number (pos 0)) (Number (pos 9))) ∷ []); locals = []; items = ((Data (Var 0 sort.Int) (Var 2 sort.Val) (Var 4 sort.List)) ∷ (Data (Var 1 sort.Int) (Var 3 sort.Val) (Var 5 sort.List)) ∷ []) }); post = (record { opened = []; facts = ((Rel relation.Le (Var 0 sort.Int) (Of2 binary.Add (Of2 binary.Mul (Number (pos 2)) (Of2 binary.Quot (Var 0 sort.Int) (Number (pos 2)))) (Number (pos 2)))) ∷ []); locals = []; items = ((Data (Var 0 sort.Int) (Var 2 sort.Val) (Var 4 sort.List)) ∷ (Data (Var 1 sort.Int) (Var 3 sort.Val) (Var 5 sort.List)) ∷ []) }) }) ∷ []) }) (record { is_void = true; name = name_f; params = (name_p ∷ []); vars = ((name_s, sort.Int) ∷ (name_t, sort.Int) ∷ (name_v, sort.Val) ∷ (name_w, sort.Val) ∷ (name_k, sort.List) ∷ (name_m, sort.List) ∷ []); pre = (record { opened = []; facts = ((Rel relation.Le (Number (pos 0)) (Var 0 sort.Int)) ∷ (Each (Var 4 sort.List) (Number (pos 0)) (Number (pos 9))) ∷ []); locals = []; items = ((Data (Var 0 sort.Int) (Var 2 sort.Val) (Var 4 sort.List)) ∷ (Data (Var 1 sort.Int) (Var 3 sort.Val) (Var 5 sort.List)) ∷ []) }); post = (record { opened = []; facts = ((Rel relation.Le (Var 0 sort.Int) (Of2 binary.Add (Of2 binary.Mul (Number (pos 2)) (Of2 binary.Quot (Var 0 sort.Int) (Number (pos 2)))) (Number (pos 2)))) ∷ []); locals = []; items = ((Data (Var 0 sort.Int) (Var 2 sort.Val) (Var 4 sort.List)) ∷ (Data (Var 1 sort.Int) (Var 3 sort.Val) (Var 5 sort.List)) ∷ []) }) }) (record { temps = (name_p ∷ []); body = (c.Then (c.Return None) c.End) }) (s.Then 1 (s.Law name_sum_lo ((Named name_k) ∷ (Number (pos 0)) ∷ (Number (pos 9)) ∷ []) ([])) s.NoBlock (s.Then 2 (s.Return ([]) ([]) ([])) s.NoBlock s.End)) ≡ (RefusedAt 2 9 3)
unfolding computing
edges_234 = refl

edges_235 : body_verdict (record { predicates = ([]); specs = ((record { is_void = true; name = name_f; params = (name_p ∷ []); vars = ((name_s, sort.Int) ∷ (name_t, sort.Int) ∷ (name_v, sort.Val) ∷ (name_w, sort.Val) ∷ (name_k, sort.List) ∷ (name_m, sort.List) ∷ []); pre = (record { opened = []; facts = ((Rel relation.Le (Number (pos 0)) (Var 0 sort.Int)) ∷ (Each (Var 4 sort.List) (Number (pos 0)) (Number (pos 9))) ∷ []); locals = []; items = ((Data (Var 0 sort.Int) (Var 2 sort.Val) (Var 4 sort.List)) ∷ (Data (Var 1 sort.Int) (Var 3 sort.Val) (Var 5 sort.List)) ∷ []) }); post = (record { opened = []; facts = ((Rel relation.Le (Var 0 sort.Int) (Of2 binary.Add (Of2 binary.Mul (Number (pos 2)) (Of2 binary.Quot (Var 0 sort.Int) (Number (pos 2)))) (Number (pos 2)))) ∷ []); locals = []; items = ((Data (Var 0 sort.Int) (Var 2 sort.Val) (Var 4 sort.List)) ∷ (Data (Var 1 sort.Int) (Var 3 sort.Val) (Var 5 sort.List)) ∷ []) }) }) ∷ []) }) (record { is_void = true; name = name_f; params = (name_p ∷ []); vars = ((name_s, sort.Int) ∷ (name_t, sort.Int) ∷ (name_v, sort.Val) ∷ (name_w, sort.Val) ∷ (name_k, sort.List) ∷ (name_m, sort.List) ∷ []); pre = (record { opened = []; facts = ((Rel relation.Le (Number (pos 0)) (Var 0 sort.Int)) ∷ (Each (Var 4 sort.List) (Number (pos 0)) (Number (pos 9))) ∷ []); locals = []; items = ((Data (Var 0 sort.Int) (Var 2 sort.Val) (Var 4 sort.List)) ∷ (Data (Var 1 sort.Int) (Var 3 sort.Val) (Var 5 sort.List)) ∷ []) }); post = (record { opened = []; facts = ((Rel relation.Le (Var 0 sort.Int) (Of2 binary.Add (Of2 binary.Mul (Number (pos 2)) (Of2 binary.Quot (Var 0 sort.Int) (Number (pos 2)))) (Number (pos 2)))) ∷ []); locals = []; items = ((Data (Var 0 sort.Int) (Var 2 sort.Val) (Var 4 sort.List)) ∷ (Data (Var 1 sort.Int) (Var 3 sort.Val) (Var 5 sort.List)) ∷ []) }) }) (record { temps = (name_p ∷ []); body = (c.Then (c.Return None) c.End) }) (s.Then 1 (s.Law name_sum_hi ((Named name_k) ∷ (Number (pos 0)) ∷ (Number (pos 9)) ∷ []) ([])) s.NoBlock (s.Then 2 (s.Return ([]) ([]) ([])) s.NoBlock s.End)) ≡ (RefusedAt 2 9 3)
unfolding computing
edges_235 = refl

edges_236 : body_verdict (record { predicates = ([]); specs = ((record { is_void = true; name = name_f; params = (name_p ∷ []); vars = ((name_s, sort.Int) ∷ (name_t, sort.Int) ∷ (name_v, sort.Val) ∷ (name_w, sort.Val) ∷ (name_k, sort.List) ∷ (name_m, sort.List) ∷ []); pre = (record { opened = []; facts = ((Rel relation.Le (Number (pos 0)) (Var 0 sort.Int)) ∷ (Each (Var 4 sort.List) (Number (pos 0)) (Number (pos 9))) ∷ []); locals = []; items = ((Data (Var 0 sort.Int) (Var 2 sort.Val) (Var 4 sort.List)) ∷ (Data (Var 1 sort.Int) (Var 3 sort.Val) (Var 5 sort.List)) ∷ []) }); post = (record { opened = []; facts = ((Rel relation.Eq (Of2 binary.Rem (Var 0 sort.Int) (Number (pos 2))) (Of2 binary.Sub (Var 0 sort.Int) (Of2 binary.Mul (Number (pos 2)) (Of2 binary.Quot (Var 0 sort.Int) (Number (pos 2)))))) ∷ []); locals = []; items = ((Data (Var 0 sort.Int) (Var 2 sort.Val) (Var 4 sort.List)) ∷ (Data (Var 1 sort.Int) (Var 3 sort.Val) (Var 5 sort.List)) ∷ []) }) }) ∷ []) }) (record { is_void = true; name = name_f; params = (name_p ∷ []); vars = ((name_s, sort.Int) ∷ (name_t, sort.Int) ∷ (name_v, sort.Val) ∷ (name_w, sort.Val) ∷ (name_k, sort.List) ∷ (name_m, sort.List) ∷ []); pre = (record { opened = []; facts = ((Rel relation.Le (Number (pos 0)) (Var 0 sort.Int)) ∷ (Each (Var 4 sort.List) (Number (pos 0)) (Number (pos 9))) ∷ []); locals = []; items = ((Data (Var 0 sort.Int) (Var 2 sort.Val) (Var 4 sort.List)) ∷ (Data (Var 1 sort.Int) (Var 3 sort.Val) (Var 5 sort.List)) ∷ []) }); post = (record { opened = []; facts = ((Rel relation.Eq (Of2 binary.Rem (Var 0 sort.Int) (Number (pos 2))) (Of2 binary.Sub (Var 0 sort.Int) (Of2 binary.Mul (Number (pos 2)) (Of2 binary.Quot (Var 0 sort.Int) (Number (pos 2)))))) ∷ []); locals = []; items = ((Data (Var 0 sort.Int) (Var 2 sort.Val) (Var 4 sort.List)) ∷ (Data (Var 1 sort.Int) (Var 3 sort.Val) (Var 5 sort.List)) ∷ []) }) }) (record { temps = (name_p ∷ []); body = (c.Then (c.Return None) c.End) }) (s.Then 1 (s.Law name_quot_lo ((Named name_s) ∷ (Number (pos 2)) ∷ []) ([])) s.NoBlock (s.Then 2 (s.Return ([]) ([]) ([])) s.NoBlock s.End)) ≡ (RefusedAt 2 9 3)
unfolding computing
edges_236 = refl

edges_237 : body_verdict (record { predicates = ([]); specs = ((record { is_void = true; name = name_f; params = (name_p ∷ []); vars = ((name_s, sort.Int) ∷ (name_t, sort.Int) ∷ (name_v, sort.Val) ∷ (name_w, sort.Val) ∷ (name_k, sort.List) ∷ (name_m, sort.List) ∷ []); pre = (record { opened = []; facts = ((Rel relation.Le (Number (pos 0)) (Var 0 sort.Int)) ∷ (Each (Var 4 sort.List) (Number (pos 0)) (Number (pos 9))) ∷ []); locals = []; items = ((Data (Var 0 sort.Int) (Var 2 sort.Val) (Var 4 sort.List)) ∷ (Data (Var 1 sort.Int) (Var 3 sort.Val) (Var 5 sort.List)) ∷ []) }); post = (record { opened = []; facts = ((Rel relation.Eq (Of2 binary.Rem (Var 0 sort.Int) (Number (pos 2))) (Of2 binary.Sub (Var 0 sort.Int) (Of2 binary.Mul (Number (pos 2)) (Of2 binary.Quot (Var 0 sort.Int) (Number (pos 2)))))) ∷ []); locals = []; items = ((Data (Var 0 sort.Int) (Var 2 sort.Val) (Var 4 sort.List)) ∷ (Data (Var 1 sort.Int) (Var 3 sort.Val) (Var 5 sort.List)) ∷ []) }) }) ∷ []) }) (record { is_void = true; name = name_f; params = (name_p ∷ []); vars = ((name_s, sort.Int) ∷ (name_t, sort.Int) ∷ (name_v, sort.Val) ∷ (name_w, sort.Val) ∷ (name_k, sort.List) ∷ (name_m, sort.List) ∷ []); pre = (record { opened = []; facts = ((Rel relation.Le (Number (pos 0)) (Var 0 sort.Int)) ∷ (Each (Var 4 sort.List) (Number (pos 0)) (Number (pos 9))) ∷ []); locals = []; items = ((Data (Var 0 sort.Int) (Var 2 sort.Val) (Var 4 sort.List)) ∷ (Data (Var 1 sort.Int) (Var 3 sort.Val) (Var 5 sort.List)) ∷ []) }); post = (record { opened = []; facts = ((Rel relation.Eq (Of2 binary.Rem (Var 0 sort.Int) (Number (pos 2))) (Of2 binary.Sub (Var 0 sort.Int) (Of2 binary.Mul (Number (pos 2)) (Of2 binary.Quot (Var 0 sort.Int) (Number (pos 2)))))) ∷ []); locals = []; items = ((Data (Var 0 sort.Int) (Var 2 sort.Val) (Var 4 sort.List)) ∷ (Data (Var 1 sort.Int) (Var 3 sort.Val) (Var 5 sort.List)) ∷ []) }) }) (record { temps = (name_p ∷ []); body = (c.Then (c.Return None) c.End) }) (s.Then 1 (s.Law name_quot_hi ((Named name_s) ∷ (Number (pos 2)) ∷ []) ([])) s.NoBlock (s.Then 2 (s.Return ([]) ([]) ([])) s.NoBlock s.End)) ≡ (RefusedAt 2 9 3)
unfolding computing
edges_237 = refl

edges_238 : body_verdict (record { predicates = ([]); specs = ((record { is_void = true; name = name_f; params = (name_p ∷ []); vars = ((name_s, sort.Int) ∷ (name_t, sort.Int) ∷ (name_v, sort.Val) ∷ (name_w, sort.Val) ∷ (name_k, sort.List) ∷ (name_m, sort.List) ∷ []); pre = (record { opened = []; facts = ((Rel relation.Le (Number (pos 0)) (Var 0 sort.Int)) ∷ (Each (Var 4 sort.List) (Number (pos 0)) (Number (pos 9))) ∷ []); locals = []; items = ((Data (Var 0 sort.Int) (Var 2 sort.Val) (Var 4 sort.List)) ∷ (Data (Var 1 sort.Int) (Var 3 sort.Val) (Var 5 sort.List)) ∷ []) }); post = (record { opened = []; facts = ((Rel relation.Eq (Of2 binary.Rem (Var 0 sort.Int) (Number (pos 2))) (Of2 binary.Sub (Var 0 sort.Int) (Of2 binary.Mul (Number (pos 2)) (Of2 binary.Quot (Var 0 sort.Int) (Number (pos 2)))))) ∷ []); locals = []; items = ((Data (Var 0 sort.Int) (Var 2 sort.Val) (Var 4 sort.List)) ∷ (Data (Var 1 sort.Int) (Var 3 sort.Val) (Var 5 sort.List)) ∷ []) }) }) ∷ []) }) (record { is_void = true; name = name_f; params = (name_p ∷ []); vars = ((name_s, sort.Int) ∷ (name_t, sort.Int) ∷ (name_v, sort.Val) ∷ (name_w, sort.Val) ∷ (name_k, sort.List) ∷ (name_m, sort.List) ∷ []); pre = (record { opened = []; facts = ((Rel relation.Le (Number (pos 0)) (Var 0 sort.Int)) ∷ (Each (Var 4 sort.List) (Number (pos 0)) (Number (pos 9))) ∷ []); locals = []; items = ((Data (Var 0 sort.Int) (Var 2 sort.Val) (Var 4 sort.List)) ∷ (Data (Var 1 sort.Int) (Var 3 sort.Val) (Var 5 sort.List)) ∷ []) }); post = (record { opened = []; facts = ((Rel relation.Eq (Of2 binary.Rem (Var 0 sort.Int) (Number (pos 2))) (Of2 binary.Sub (Var 0 sort.Int) (Of2 binary.Mul (Number (pos 2)) (Of2 binary.Quot (Var 0 sort.Int) (Number (pos 2)))))) ∷ []); locals = []; items = ((Data (Var 0 sort.Int) (Var 2 sort.Val) (Var 4 sort.List)) ∷ (Data (Var 1 sort.Int) (Var 3 sort.Val) (Var 5 sort.List)) ∷ []) }) }) (record { temps = (name_p ∷ []); body = (c.Then (c.Return None) c.End) }) (s.Then 1 (s.Law name_rem_eq ((Named name_s) ∷ (Number (pos 2)) ∷ []) ([])) s.NoBlock (s.Then 2 (s.Return ([]) ([]) ([])) s.NoBlock s.End)) ≡ Accepted
unfolding computing
edges_238 = refl

edges_239 : body_verdict (record { predicates = ([]); specs = ((record { is_void = true; name = name_f; params = (name_p ∷ []); vars = ((name_s, sort.Int) ∷ (name_t, sort.Int) ∷ (name_v, sort.Val) ∷ (name_w, sort.Val) ∷ (name_k, sort.List) ∷ (name_m, sort.List) ∷ []); pre = (record { opened = []; facts = ((Rel relation.Le (Number (pos 0)) (Var 0 sort.Int)) ∷ (Each (Var 4 sort.List) (Number (pos 0)) (Number (pos 9))) ∷ []); locals = []; items = ((Data (Var 0 sort.Int) (Var 2 sort.Val) (Var 4 sort.List)) ∷ (Data (Var 1 sort.Int) (Var 3 sort.Val) (Var 5 sort.List)) ∷ []) }); post = (record { opened = []; facts = ((Rel relation.Eq (Of2 binary.Rem (Var 0 sort.Int) (Number (pos 2))) (Of2 binary.Sub (Var 0 sort.Int) (Of2 binary.Mul (Number (pos 2)) (Of2 binary.Quot (Var 0 sort.Int) (Number (pos 2)))))) ∷ []); locals = []; items = ((Data (Var 0 sort.Int) (Var 2 sort.Val) (Var 4 sort.List)) ∷ (Data (Var 1 sort.Int) (Var 3 sort.Val) (Var 5 sort.List)) ∷ []) }) }) ∷ []) }) (record { is_void = true; name = name_f; params = (name_p ∷ []); vars = ((name_s, sort.Int) ∷ (name_t, sort.Int) ∷ (name_v, sort.Val) ∷ (name_w, sort.Val) ∷ (name_k, sort.List) ∷ (name_m, sort.List) ∷ []); pre = (record { opened = []; facts = ((Rel relation.Le (Number (pos 0)) (Var 0 sort.Int)) ∷ (Each (Var 4 sort.List) (Number (pos 0)) (Number (pos 9))) ∷ []); locals = []; items = ((Data (Var 0 sort.Int) (Var 2 sort.Val) (Var 4 sort.List)) ∷ (Data (Var 1 sort.Int) (Var 3 sort.Val) (Var 5 sort.List)) ∷ []) }); post = (record { opened = []; facts = ((Rel relation.Eq (Of2 binary.Rem (Var 0 sort.Int) (Number (pos 2))) (Of2 binary.Sub (Var 0 sort.Int) (Of2 binary.Mul (Number (pos 2)) (Of2 binary.Quot (Var 0 sort.Int) (Number (pos 2)))))) ∷ []); locals = []; items = ((Data (Var 0 sort.Int) (Var 2 sort.Val) (Var 4 sort.List)) ∷ (Data (Var 1 sort.Int) (Var 3 sort.Val) (Var 5 sort.List)) ∷ []) }) }) (record { temps = (name_p ∷ []); body = (c.Then (c.Return None) c.End) }) (s.Then 1 (s.Law name_sum_lo ((Named name_k) ∷ (Number (pos 0)) ∷ (Number (pos 9)) ∷ []) ([])) s.NoBlock (s.Then 2 (s.Return ([]) ([]) ([])) s.NoBlock s.End)) ≡ (RefusedAt 2 9 3)
unfolding computing
edges_239 = refl

edges_240 : body_verdict (record { predicates = ([]); specs = ((record { is_void = true; name = name_f; params = (name_p ∷ []); vars = ((name_s, sort.Int) ∷ (name_t, sort.Int) ∷ (name_v, sort.Val) ∷ (name_w, sort.Val) ∷ (name_k, sort.List) ∷ (name_m, sort.List) ∷ []); pre = (record { opened = []; facts = ((Rel relation.Le (Number (pos 0)) (Var 0 sort.Int)) ∷ (Each (Var 4 sort.List) (Number (pos 0)) (Number (pos 9))) ∷ []); locals = []; items = ((Data (Var 0 sort.Int) (Var 2 sort.Val) (Var 4 sort.List)) ∷ (Data (Var 1 sort.Int) (Var 3 sort.Val) (Var 5 sort.List)) ∷ []) }); post = (record { opened = []; facts = ((Rel relation.Eq (Of2 binary.Rem (Var 0 sort.Int) (Number (pos 2))) (Of2 binary.Sub (Var 0 sort.Int) (Of2 binary.Mul (Number (pos 2)) (Of2 binary.Quot (Var 0 sort.Int) (Number (pos 2)))))) ∷ []); locals = []; items = ((Data (Var 0 sort.Int) (Var 2 sort.Val) (Var 4 sort.List)) ∷ (Data (Var 1 sort.Int) (Var 3 sort.Val) (Var 5 sort.List)) ∷ []) }) }) ∷ []) }) (record { is_void = true; name = name_f; params = (name_p ∷ []); vars = ((name_s, sort.Int) ∷ (name_t, sort.Int) ∷ (name_v, sort.Val) ∷ (name_w, sort.Val) ∷ (name_k, sort.List) ∷ (name_m, sort.List) ∷ []); pre = (record { opened = []; facts = ((Rel relation.Le (Number (pos 0)) (Var 0 sort.Int)) ∷ (Each (Var 4 sort.List) (Number (pos 0)) (Number (pos 9))) ∷ []); locals = []; items = ((Data (Var 0 sort.Int) (Var 2 sort.Val) (Var 4 sort.List)) ∷ (Data (Var 1 sort.Int) (Var 3 sort.Val) (Var 5 sort.List)) ∷ []) }); post = (record { opened = []; facts = ((Rel relation.Eq (Of2 binary.Rem (Var 0 sort.Int) (Number (pos 2))) (Of2 binary.Sub (Var 0 sort.Int) (Of2 binary.Mul (Number (pos 2)) (Of2 binary.Quot (Var 0 sort.Int) (Number (pos 2)))))) ∷ []); locals = []; items = ((Data (Var 0 sort.Int) (Var 2 sort.Val) (Var 4 sort.List)) ∷ (Data (Var 1 sort.Int) (Var 3 sort.Val) (Var 5 sort.List)) ∷ []) }) }) (record { temps = (name_p ∷ []); body = (c.Then (c.Return None) c.End) }) (s.Then 1 (s.Law name_sum_hi ((Named name_k) ∷ (Number (pos 0)) ∷ (Number (pos 9)) ∷ []) ([])) s.NoBlock (s.Then 2 (s.Return ([]) ([]) ([])) s.NoBlock s.End)) ≡ (RefusedAt 2 9 3)
unfolding computing
edges_240 = refl

edges_241 : body_verdict (record { predicates = ([]); specs = ((record { is_void = true; name = name_f; params = (name_p ∷ []); vars = ((name_s, sort.Int) ∷ (name_t, sort.Int) ∷ (name_v, sort.Val) ∷ (name_w, sort.Val) ∷ (name_k, sort.List) ∷ (name_m, sort.List) ∷ []); pre = (record { opened = []; facts = ((Rel relation.Le (Number (pos 0)) (Var 0 sort.Int)) ∷ (Each (Var 4 sort.List) (Number (pos 0)) (Number (pos 9))) ∷ []); locals = []; items = ((Data (Var 0 sort.Int) (Var 2 sort.Val) (Var 4 sort.List)) ∷ (Data (Var 1 sort.Int) (Var 3 sort.Val) (Var 5 sort.List)) ∷ []) }); post = (record { opened = []; facts = ((Rel relation.Le (Of2 binary.Mul (Number (pos 9)) (Of unary.Len (Var 4 sort.List))) (Of unary.Sum (Var 4 sort.List))) ∷ []); locals = []; items = ((Data (Var 0 sort.Int) (Var 2 sort.Val) (Var 4 sort.List)) ∷ (Data (Var 1 sort.Int) (Var 3 sort.Val) (Var 5 sort.List)) ∷ []) }) }) ∷ []) }) (record { is_void = true; name = name_f; params = (name_p ∷ []); vars = ((name_s, sort.Int) ∷ (name_t, sort.Int) ∷ (name_v, sort.Val) ∷ (name_w, sort.Val) ∷ (name_k, sort.List) ∷ (name_m, sort.List) ∷ []); pre = (record { opened = []; facts = ((Rel relation.Le (Number (pos 0)) (Var 0 sort.Int)) ∷ (Each (Var 4 sort.List) (Number (pos 0)) (Number (pos 9))) ∷ []); locals = []; items = ((Data (Var 0 sort.Int) (Var 2 sort.Val) (Var 4 sort.List)) ∷ (Data (Var 1 sort.Int) (Var 3 sort.Val) (Var 5 sort.List)) ∷ []) }); post = (record { opened = []; facts = ((Rel relation.Le (Of2 binary.Mul (Number (pos 9)) (Of unary.Len (Var 4 sort.List))) (Of unary.Sum (Var 4 sort.List))) ∷ []); locals = []; items = ((Data (Var 0 sort.Int) (Var 2 sort.Val) (Var 4 sort.List)) ∷ (Data (Var 1 sort.Int) (Var 3 sort.Val) (Var 5 sort.List)) ∷ []) }) }) (record { temps = (name_p ∷ []); body = (c.Then (c.Return None) c.End) }) (s.Then 1 (s.Law name_quot_lo ((Named name_s) ∷ (Number (pos 2)) ∷ []) ([])) s.NoBlock (s.Then 2 (s.Return ([]) ([]) ([])) s.NoBlock s.End)) ≡ (RefusedAt 2 9 3)
unfolding computing
edges_241 = refl

edges_242 : body_verdict (record { predicates = ([]); specs = ((record { is_void = true; name = name_f; params = (name_p ∷ []); vars = ((name_s, sort.Int) ∷ (name_t, sort.Int) ∷ (name_v, sort.Val) ∷ (name_w, sort.Val) ∷ (name_k, sort.List) ∷ (name_m, sort.List) ∷ []); pre = (record { opened = []; facts = ((Rel relation.Le (Number (pos 0)) (Var 0 sort.Int)) ∷ (Each (Var 4 sort.List) (Number (pos 0)) (Number (pos 9))) ∷ []); locals = []; items = ((Data (Var 0 sort.Int) (Var 2 sort.Val) (Var 4 sort.List)) ∷ (Data (Var 1 sort.Int) (Var 3 sort.Val) (Var 5 sort.List)) ∷ []) }); post = (record { opened = []; facts = ((Rel relation.Le (Of2 binary.Mul (Number (pos 9)) (Of unary.Len (Var 4 sort.List))) (Of unary.Sum (Var 4 sort.List))) ∷ []); locals = []; items = ((Data (Var 0 sort.Int) (Var 2 sort.Val) (Var 4 sort.List)) ∷ (Data (Var 1 sort.Int) (Var 3 sort.Val) (Var 5 sort.List)) ∷ []) }) }) ∷ []) }) (record { is_void = true; name = name_f; params = (name_p ∷ []); vars = ((name_s, sort.Int) ∷ (name_t, sort.Int) ∷ (name_v, sort.Val) ∷ (name_w, sort.Val) ∷ (name_k, sort.List) ∷ (name_m, sort.List) ∷ []); pre = (record { opened = []; facts = ((Rel relation.Le (Number (pos 0)) (Var 0 sort.Int)) ∷ (Each (Var 4 sort.List) (Number (pos 0)) (Number (pos 9))) ∷ []); locals = []; items = ((Data (Var 0 sort.Int) (Var 2 sort.Val) (Var 4 sort.List)) ∷ (Data (Var 1 sort.Int) (Var 3 sort.Val) (Var 5 sort.List)) ∷ []) }); post = (record { opened = []; facts = ((Rel relation.Le (Of2 binary.Mul (Number (pos 9)) (Of unary.Len (Var 4 sort.List))) (Of unary.Sum (Var 4 sort.List))) ∷ []); locals = []; items = ((Data (Var 0 sort.Int) (Var 2 sort.Val) (Var 4 sort.List)) ∷ (Data (Var 1 sort.Int) (Var 3 sort.Val) (Var 5 sort.List)) ∷ []) }) }) (record { temps = (name_p ∷ []); body = (c.Then (c.Return None) c.End) }) (s.Then 1 (s.Law name_quot_hi ((Named name_s) ∷ (Number (pos 2)) ∷ []) ([])) s.NoBlock (s.Then 2 (s.Return ([]) ([]) ([])) s.NoBlock s.End)) ≡ (RefusedAt 2 9 3)
unfolding computing
edges_242 = refl

edges_243 : body_verdict (record { predicates = ([]); specs = ((record { is_void = true; name = name_f; params = (name_p ∷ []); vars = ((name_s, sort.Int) ∷ (name_t, sort.Int) ∷ (name_v, sort.Val) ∷ (name_w, sort.Val) ∷ (name_k, sort.List) ∷ (name_m, sort.List) ∷ []); pre = (record { opened = []; facts = ((Rel relation.Le (Number (pos 0)) (Var 0 sort.Int)) ∷ (Each (Var 4 sort.List) (Number (pos 0)) (Number (pos 9))) ∷ []); locals = []; items = ((Data (Var 0 sort.Int) (Var 2 sort.Val) (Var 4 sort.List)) ∷ (Data (Var 1 sort.Int) (Var 3 sort.Val) (Var 5 sort.List)) ∷ []) }); post = (record { opened = []; facts = ((Rel relation.Le (Of2 binary.Mul (Number (pos 9)) (Of unary.Len (Var 4 sort.List))) (Of unary.Sum (Var 4 sort.List))) ∷ []); locals = []; items = ((Data (Var 0 sort.Int) (Var 2 sort.Val) (Var 4 sort.List)) ∷ (Data (Var 1 sort.Int) (Var 3 sort.Val) (Var 5 sort.List)) ∷ []) }) }) ∷ []) }) (record { is_void = true; name = name_f; params = (name_p ∷ []); vars = ((name_s, sort.Int) ∷ (name_t, sort.Int) ∷ (name_v, sort.Val) ∷ (name_w, sort.Val) ∷ (name_k, sort.List) ∷ (name_m, sort.List) ∷ []); pre = (record { opened = []; facts = ((Rel relation.Le (Number (pos 0)) (Var 0 sort.Int)) ∷ (Each (Var 4 sort.List) (Number (pos 0)) (Number (pos 9))) ∷ []); locals = []; items = ((Data (Var 0 sort.Int) (Var 2 sort.Val) (Var 4 sort.List)) ∷ (Data (Var 1 sort.Int) (Var 3 sort.Val) (Var 5 sort.List)) ∷ []) }); post = (record { opened = []; facts = ((Rel relation.Le (Of2 binary.Mul (Number (pos 9)) (Of unary.Len (Var 4 sort.List))) (Of unary.Sum (Var 4 sort.List))) ∷ []); locals = []; items = ((Data (Var 0 sort.Int) (Var 2 sort.Val) (Var 4 sort.List)) ∷ (Data (Var 1 sort.Int) (Var 3 sort.Val) (Var 5 sort.List)) ∷ []) }) }) (record { temps = (name_p ∷ []); body = (c.Then (c.Return None) c.End) }) (s.Then 1 (s.Law name_rem_eq ((Named name_s) ∷ (Number (pos 2)) ∷ []) ([])) s.NoBlock (s.Then 2 (s.Return ([]) ([]) ([])) s.NoBlock s.End)) ≡ (RefusedAt 2 9 3)
unfolding computing
edges_243 = refl

edges_244 : body_verdict (record { predicates = ([]); specs = ((record { is_void = true; name = name_f; params = (name_p ∷ []); vars = ((name_s, sort.Int) ∷ (name_t, sort.Int) ∷ (name_v, sort.Val) ∷ (name_w, sort.Val) ∷ (name_k, sort.List) ∷ (name_m, sort.List) ∷ []); pre = (record { opened = []; facts = ((Rel relation.Le (Number (pos 0)) (Var 0 sort.Int)) ∷ (Each (Var 4 sort.List) (Number (pos 0)) (Number (pos 9))) ∷ []); locals = []; items = ((Data (Var 0 sort.Int) (Var 2 sort.Val) (Var 4 sort.List)) ∷ (Data (Var 1 sort.Int) (Var 3 sort.Val) (Var 5 sort.List)) ∷ []) }); post = (record { opened = []; facts = ((Rel relation.Le (Of2 binary.Mul (Number (pos 9)) (Of unary.Len (Var 4 sort.List))) (Of unary.Sum (Var 4 sort.List))) ∷ []); locals = []; items = ((Data (Var 0 sort.Int) (Var 2 sort.Val) (Var 4 sort.List)) ∷ (Data (Var 1 sort.Int) (Var 3 sort.Val) (Var 5 sort.List)) ∷ []) }) }) ∷ []) }) (record { is_void = true; name = name_f; params = (name_p ∷ []); vars = ((name_s, sort.Int) ∷ (name_t, sort.Int) ∷ (name_v, sort.Val) ∷ (name_w, sort.Val) ∷ (name_k, sort.List) ∷ (name_m, sort.List) ∷ []); pre = (record { opened = []; facts = ((Rel relation.Le (Number (pos 0)) (Var 0 sort.Int)) ∷ (Each (Var 4 sort.List) (Number (pos 0)) (Number (pos 9))) ∷ []); locals = []; items = ((Data (Var 0 sort.Int) (Var 2 sort.Val) (Var 4 sort.List)) ∷ (Data (Var 1 sort.Int) (Var 3 sort.Val) (Var 5 sort.List)) ∷ []) }); post = (record { opened = []; facts = ((Rel relation.Le (Of2 binary.Mul (Number (pos 9)) (Of unary.Len (Var 4 sort.List))) (Of unary.Sum (Var 4 sort.List))) ∷ []); locals = []; items = ((Data (Var 0 sort.Int) (Var 2 sort.Val) (Var 4 sort.List)) ∷ (Data (Var 1 sort.Int) (Var 3 sort.Val) (Var 5 sort.List)) ∷ []) }) }) (record { temps = (name_p ∷ []); body = (c.Then (c.Return None) c.End) }) (s.Then 1 (s.Law name_sum_lo ((Named name_k) ∷ (Number (pos 0)) ∷ (Number (pos 9)) ∷ []) ([])) s.NoBlock (s.Then 2 (s.Return ([]) ([]) ([])) s.NoBlock s.End)) ≡ (RefusedAt 2 9 3)
unfolding computing
edges_244 = refl

edges_245 : body_verdict (record { predicates = ([]); specs = ((record { is_void = true; name = name_f; params = (name_p ∷ []); vars = ((name_s, sort.Int) ∷ (name_t, sort.Int) ∷ (name_v, sort.Val) ∷ (name_w, sort.Val) ∷ (name_k, sort.List) ∷ (name_m, sort.List) ∷ []); pre = (record { opened = []; facts = ((Rel relation.Le (Number (pos 0)) (Var 0 sort.Int)) ∷ (Each (Var 4 sort.List) (Number (pos 0)) (Number (pos 9))) ∷ []); locals = []; items = ((Data (Var 0 sort.Int) (Var 2 sort.Val) (Var 4 sort.List)) ∷ (Data (Var 1 sort.Int) (Var 3 sort.Val) (Var 5 sort.List)) ∷ []) }); post = (record { opened = []; facts = ((Rel relation.Le (Of2 binary.Mul (Number (pos 9)) (Of unary.Len (Var 4 sort.List))) (Of unary.Sum (Var 4 sort.List))) ∷ []); locals = []; items = ((Data (Var 0 sort.Int) (Var 2 sort.Val) (Var 4 sort.List)) ∷ (Data (Var 1 sort.Int) (Var 3 sort.Val) (Var 5 sort.List)) ∷ []) }) }) ∷ []) }) (record { is_void = true; name = name_f; params = (name_p ∷ []); vars = ((name_s, sort.Int) ∷ (name_t, sort.Int) ∷ (name_v, sort.Val) ∷ (name_w, sort.Val) ∷ (name_k, sort.List) ∷ (name_m, sort.List) ∷ []); pre = (record { opened = []; facts = ((Rel relation.Le (Number (pos 0)) (Var 0 sort.Int)) ∷ (Each (Var 4 sort.List) (Number (pos 0)) (Number (pos 9))) ∷ []); locals = []; items = ((Data (Var 0 sort.Int) (Var 2 sort.Val) (Var 4 sort.List)) ∷ (Data (Var 1 sort.Int) (Var 3 sort.Val) (Var 5 sort.List)) ∷ []) }); post = (record { opened = []; facts = ((Rel relation.Le (Of2 binary.Mul (Number (pos 9)) (Of unary.Len (Var 4 sort.List))) (Of unary.Sum (Var 4 sort.List))) ∷ []); locals = []; items = ((Data (Var 0 sort.Int) (Var 2 sort.Val) (Var 4 sort.List)) ∷ (Data (Var 1 sort.Int) (Var 3 sort.Val) (Var 5 sort.List)) ∷ []) }) }) (record { temps = (name_p ∷ []); body = (c.Then (c.Return None) c.End) }) (s.Then 1 (s.Law name_sum_hi ((Named name_k) ∷ (Number (pos 0)) ∷ (Number (pos 9)) ∷ []) ([])) s.NoBlock (s.Then 2 (s.Return ([]) ([]) ([])) s.NoBlock s.End)) ≡ (RefusedAt 2 9 3)
unfolding computing
edges_245 = refl

edges_246 : body_verdict (record { predicates = ([]); specs = ((record { is_void = true; name = name_f; params = (name_p ∷ []); vars = ((name_s, sort.Int) ∷ (name_t, sort.Int) ∷ (name_v, sort.Val) ∷ (name_w, sort.Val) ∷ (name_k, sort.List) ∷ (name_m, sort.List) ∷ []); pre = (record { opened = []; facts = ((Rel relation.Le (Number (pos 0)) (Var 0 sort.Int)) ∷ (Each (Var 4 sort.List) (Number (pos 0)) (Number (pos 9))) ∷ []); locals = []; items = ((Data (Var 0 sort.Int) (Var 2 sort.Val) (Var 4 sort.List)) ∷ (Data (Var 1 sort.Int) (Var 3 sort.Val) (Var 5 sort.List)) ∷ []) }); post = (record { opened = []; facts = ((Rel relation.Le (Number (pos 0)) (Of unary.Sum (Var 4 sort.List))) ∷ []); locals = []; items = ((Data (Var 0 sort.Int) (Var 2 sort.Val) (Var 4 sort.List)) ∷ (Data (Var 1 sort.Int) (Var 3 sort.Val) (Var 5 sort.List)) ∷ []) }) }) ∷ []) }) (record { is_void = true; name = name_f; params = (name_p ∷ []); vars = ((name_s, sort.Int) ∷ (name_t, sort.Int) ∷ (name_v, sort.Val) ∷ (name_w, sort.Val) ∷ (name_k, sort.List) ∷ (name_m, sort.List) ∷ []); pre = (record { opened = []; facts = ((Rel relation.Le (Number (pos 0)) (Var 0 sort.Int)) ∷ (Each (Var 4 sort.List) (Number (pos 0)) (Number (pos 9))) ∷ []); locals = []; items = ((Data (Var 0 sort.Int) (Var 2 sort.Val) (Var 4 sort.List)) ∷ (Data (Var 1 sort.Int) (Var 3 sort.Val) (Var 5 sort.List)) ∷ []) }); post = (record { opened = []; facts = ((Rel relation.Le (Number (pos 0)) (Of unary.Sum (Var 4 sort.List))) ∷ []); locals = []; items = ((Data (Var 0 sort.Int) (Var 2 sort.Val) (Var 4 sort.List)) ∷ (Data (Var 1 sort.Int) (Var 3 sort.Val) (Var 5 sort.List)) ∷ []) }) }) (record { temps = (name_p ∷ []); body = (c.Then (c.Return None) c.End) }) (s.Then 1 (s.Law name_quot_lo ((Named name_s) ∷ (Number (pos 2)) ∷ []) ([])) s.NoBlock (s.Then 2 (s.Return ([]) ([]) ([])) s.NoBlock s.End)) ≡ (RefusedAt 2 9 3)
unfolding computing
edges_246 = refl

edges_247 : body_verdict (record { predicates = ([]); specs = ((record { is_void = true; name = name_f; params = (name_p ∷ []); vars = ((name_s, sort.Int) ∷ (name_t, sort.Int) ∷ (name_v, sort.Val) ∷ (name_w, sort.Val) ∷ (name_k, sort.List) ∷ (name_m, sort.List) ∷ []); pre = (record { opened = []; facts = ((Rel relation.Le (Number (pos 0)) (Var 0 sort.Int)) ∷ (Each (Var 4 sort.List) (Number (pos 0)) (Number (pos 9))) ∷ []); locals = []; items = ((Data (Var 0 sort.Int) (Var 2 sort.Val) (Var 4 sort.List)) ∷ (Data (Var 1 sort.Int) (Var 3 sort.Val) (Var 5 sort.List)) ∷ []) }); post = (record { opened = []; facts = ((Rel relation.Le (Number (pos 0)) (Of unary.Sum (Var 4 sort.List))) ∷ []); locals = []; items = ((Data (Var 0 sort.Int) (Var 2 sort.Val) (Var 4 sort.List)) ∷ (Data (Var 1 sort.Int) (Var 3 sort.Val) (Var 5 sort.List)) ∷ []) }) }) ∷ []) }) (record { is_void = true; name = name_f; params = (name_p ∷ []); vars = ((name_s, sort.Int) ∷ (name_t, sort.Int) ∷ (name_v, sort.Val) ∷ (name_w, sort.Val) ∷ (name_k, sort.List) ∷ (name_m, sort.List) ∷ []); pre = (record { opened = []; facts = ((Rel relation.Le (Number (pos 0)) (Var 0 sort.Int)) ∷ (Each (Var 4 sort.List) (Number (pos 0)) (Number (pos 9))) ∷ []); locals = []; items = ((Data (Var 0 sort.Int) (Var 2 sort.Val) (Var 4 sort.List)) ∷ (Data (Var 1 sort.Int) (Var 3 sort.Val) (Var 5 sort.List)) ∷ []) }); post = (record { opened = []; facts = ((Rel relation.Le (Number (pos 0)) (Of unary.Sum (Var 4 sort.List))) ∷ []); locals = []; items = ((Data (Var 0 sort.Int) (Var 2 sort.Val) (Var 4 sort.List)) ∷ (Data (Var 1 sort.Int) (Var 3 sort.Val) (Var 5 sort.List)) ∷ []) }) }) (record { temps = (name_p ∷ []); body = (c.Then (c.Return None) c.End) }) (s.Then 1 (s.Law name_quot_hi ((Named name_s) ∷ (Number (pos 2)) ∷ []) ([])) s.NoBlock (s.Then 2 (s.Return ([]) ([]) ([])) s.NoBlock s.End)) ≡ (RefusedAt 2 9 3)
unfolding computing
edges_247 = refl

edges_248 : body_verdict (record { predicates = ([]); specs = ((record { is_void = true; name = name_f; params = (name_p ∷ []); vars = ((name_s, sort.Int) ∷ (name_t, sort.Int) ∷ (name_v, sort.Val) ∷ (name_w, sort.Val) ∷ (name_k, sort.List) ∷ (name_m, sort.List) ∷ []); pre = (record { opened = []; facts = ((Rel relation.Le (Number (pos 0)) (Var 0 sort.Int)) ∷ (Each (Var 4 sort.List) (Number (pos 0)) (Number (pos 9))) ∷ []); locals = []; items = ((Data (Var 0 sort.Int) (Var 2 sort.Val) (Var 4 sort.List)) ∷ (Data (Var 1 sort.Int) (Var 3 sort.Val) (Var 5 sort.List)) ∷ []) }); post = (record { opened = []; facts = ((Rel relation.Le (Number (pos 0)) (Of unary.Sum (Var 4 sort.List))) ∷ []); locals = []; items = ((Data (Var 0 sort.Int) (Var 2 sort.Val) (Var 4 sort.List)) ∷ (Data (Var 1 sort.Int) (Var 3 sort.Val) (Var 5 sort.List)) ∷ []) }) }) ∷ []) }) (record { is_void = true; name = name_f; params = (name_p ∷ []); vars = ((name_s, sort.Int) ∷ (name_t, sort.Int) ∷ (name_v, sort.Val) ∷ (name_w, sort.Val) ∷ (name_k, sort.List) ∷ (name_m, sort.List) ∷ []); pre = (record { opened = []; facts = ((Rel relation.Le (Number (pos 0)) (Var 0 sort.Int)) ∷ (Each (Var 4 sort.List) (Number (pos 0)) (Number (pos 9))) ∷ []); locals = []; items = ((Data (Var 0 sort.Int) (Var 2 sort.Val) (Var 4 sort.List)) ∷ (Data (Var 1 sort.Int) (Var 3 sort.Val) (Var 5 sort.List)) ∷ []) }); post = (record { opened = []; facts = ((Rel relation.Le (Number (pos 0)) (Of unary.Sum (Var 4 sort.List))) ∷ []); locals = []; items = ((Data (Var 0 sort.Int) (Var 2 sort.Val) (Var 4 sort.List)) ∷ (Data (Var 1 sort.Int) (Var 3 sort.Val) (Var 5 sort.List)) ∷ []) }) }) (record { temps = (name_p ∷ []); body = (c.Then (c.Return None) c.End) }) (s.Then 1 (s.Law name_rem_eq ((Named name_s) ∷ (Number (pos 2)) ∷ []) ([])) s.NoBlock (s.Then 2 (s.Return ([]) ([]) ([])) s.NoBlock s.End)) ≡ (RefusedAt 2 9 3)
unfolding computing
edges_248 = refl

edges_249 : body_verdict (record { predicates = ([]); specs = ((record { is_void = true; name = name_f; params = (name_p ∷ []); vars = ((name_s, sort.Int) ∷ (name_t, sort.Int) ∷ (name_v, sort.Val) ∷ (name_w, sort.Val) ∷ (name_k, sort.List) ∷ (name_m, sort.List) ∷ []); pre = (record { opened = []; facts = ((Rel relation.Le (Number (pos 0)) (Var 0 sort.Int)) ∷ (Each (Var 4 sort.List) (Number (pos 0)) (Number (pos 9))) ∷ []); locals = []; items = ((Data (Var 0 sort.Int) (Var 2 sort.Val) (Var 4 sort.List)) ∷ (Data (Var 1 sort.Int) (Var 3 sort.Val) (Var 5 sort.List)) ∷ []) }); post = (record { opened = []; facts = ((Rel relation.Le (Number (pos 0)) (Of unary.Sum (Var 4 sort.List))) ∷ []); locals = []; items = ((Data (Var 0 sort.Int) (Var 2 sort.Val) (Var 4 sort.List)) ∷ (Data (Var 1 sort.Int) (Var 3 sort.Val) (Var 5 sort.List)) ∷ []) }) }) ∷ []) }) (record { is_void = true; name = name_f; params = (name_p ∷ []); vars = ((name_s, sort.Int) ∷ (name_t, sort.Int) ∷ (name_v, sort.Val) ∷ (name_w, sort.Val) ∷ (name_k, sort.List) ∷ (name_m, sort.List) ∷ []); pre = (record { opened = []; facts = ((Rel relation.Le (Number (pos 0)) (Var 0 sort.Int)) ∷ (Each (Var 4 sort.List) (Number (pos 0)) (Number (pos 9))) ∷ []); locals = []; items = ((Data (Var 0 sort.Int) (Var 2 sort.Val) (Var 4 sort.List)) ∷ (Data (Var 1 sort.Int) (Var 3 sort.Val) (Var 5 sort.List)) ∷ []) }); post = (record { opened = []; facts = ((Rel relation.Le (Number (pos 0)) (Of unary.Sum (Var 4 sort.List))) ∷ []); locals = []; items = ((Data (Var 0 sort.Int) (Var 2 sort.Val) (Var 4 sort.List)) ∷ (Data (Var 1 sort.Int) (Var 3 sort.Val) (Var 5 sort.List)) ∷ []) }) }) (record { temps = (name_p ∷ []); body = (c.Then (c.Return None) c.End) }) (s.Then 1 (s.Law name_sum_lo ((Named name_k) ∷ (Number (pos 0)) ∷ (Number (pos 9)) ∷ []) ([])) s.NoBlock (s.Then 2 (s.Return ([]) ([]) ([])) s.NoBlock s.End)) ≡ Accepted
unfolding computing
edges_249 = refl

edges_250 : body_verdict (record { predicates = ([]); specs = ((record { is_void = true; name = name_f; params = (name_p ∷ []); vars = ((name_s, sort.Int) ∷ (name_t, sort.Int) ∷ (name_v, sort.Val) ∷ (name_w, sort.Val) ∷ (name_k, sort.List) ∷ (name_m, sort.List) ∷ []); pre = (record { opened = []; facts = ((Rel relation.Le (Number (pos 0)) (Var 0 sort.Int)) ∷ (Each (Var 4 sort.List) (Number (pos 0)) (Number (pos 9))) ∷ []); locals = []; items = ((Data (Var 0 sort.Int) (Var 2 sort.Val) (Var 4 sort.List)) ∷ (Data (Var 1 sort.Int) (Var 3 sort.Val) (Var 5 sort.List)) ∷ []) }); post = (record { opened = []; facts = ((Rel relation.Le (Number (pos 0)) (Of unary.Sum (Var 4 sort.List))) ∷ []); locals = []; items = ((Data (Var 0 sort.Int) (Var 2 sort.Val) (Var 4 sort.List)) ∷ (Data (Var 1 sort.Int) (Var 3 sort.Val) (Var 5 sort.List)) ∷ []) }) }) ∷ []) }) (record { is_void = true; name = name_f; params = (name_p ∷ []); vars = ((name_s, sort.Int) ∷ (name_t, sort.Int) ∷ (name_v, sort.Val) ∷ (name_w, sort.Val) ∷ (name_k, sort.List) ∷ (name_m, sort.List) ∷ []); pre = (record { opened = []; facts = ((Rel relation.Le (Number (pos 0)) (Var 0 sort.Int)) ∷ (Each (Var 4 sort.List) (Number (pos 0)) (Number (pos 9))) ∷ []); locals = []; items = ((Data (Var 0 sort.Int) (Var 2 sort.Val) (Var 4 sort.List)) ∷ (Data (Var 1 sort.Int) (Var 3 sort.Val) (Var 5 sort.List)) ∷ []) }); post = (record { opened = []; facts = ((Rel relation.Le (Number (pos 0)) (Of unary.Sum (Var 4 sort.List))) ∷ []); locals = []; items = ((Data (Var 0 sort.Int) (Var 2 sort.Val) (Var 4 sort.List)) ∷ (Data (Var 1 sort.Int) (Var 3 sort.Val) (Var 5 sort.List)) ∷ []) }) }) (record { temps = (name_p ∷ []); body = (c.Then (c.Return None) c.End) }) (s.Then 1 (s.Law name_sum_hi ((Named name_k) ∷ (Number (pos 0)) ∷ (Number (pos 9)) ∷ []) ([])) s.NoBlock (s.Then 2 (s.Return ([]) ([]) ([])) s.NoBlock s.End)) ≡ (RefusedAt 2 9 3)
unfolding computing
edges_250 = refl

edges_251 : body_verdict (record { predicates = ([]); specs = ((record { is_void = true; name = name_f; params = (name_p ∷ []); vars = ((name_s, sort.Int) ∷ (name_t, sort.Int) ∷ (name_v, sort.Val) ∷ (name_w, sort.Val) ∷ (name_k, sort.List) ∷ (name_m, sort.List) ∷ []); pre = (record { opened = []; facts = ((Rel relation.Le (Number (pos 0)) (Var 0 sort.Int)) ∷ (Each (Var 4 sort.List) (Number (pos 0)) (Number (pos 9))) ∷ []); locals = []; items = ((Data (Var 0 sort.Int) (Var 2 sort.Val) (Var 4 sort.List)) ∷ (Data (Var 1 sort.Int) (Var 3 sort.Val) (Var 5 sort.List)) ∷ []) }); post = (record { opened = []; facts = ((Rel relation.Le (Of unary.Sum (Var 4 sort.List)) (Of2 binary.Mul (Number (pos 9)) (Of unary.Len (Var 4 sort.List)))) ∷ []); locals = []; items = ((Data (Var 0 sort.Int) (Var 2 sort.Val) (Var 4 sort.List)) ∷ (Data (Var 1 sort.Int) (Var 3 sort.Val) (Var 5 sort.List)) ∷ []) }) }) ∷ []) }) (record { is_void = true; name = name_f; params = (name_p ∷ []); vars = ((name_s, sort.Int) ∷ (name_t, sort.Int) ∷ (name_v, sort.Val) ∷ (name_w, sort.Val) ∷ (name_k, sort.List) ∷ (name_m, sort.List) ∷ []); pre = (record { opened = []; facts = ((Rel relation.Le (Number (pos 0)) (Var 0 sort.Int)) ∷ (Each (Var 4 sort.List) (Number (pos 0)) (Number (pos 9))) ∷ []); locals = []; items = ((Data (Var 0 sort.Int) (Var 2 sort.Val) (Var 4 sort.List)) ∷ (Data (Var 1 sort.Int) (Var 3 sort.Val) (Var 5 sort.List)) ∷ []) }); post = (record { opened = []; facts = ((Rel relation.Le (Of unary.Sum (Var 4 sort.List)) (Of2 binary.Mul (Number (pos 9)) (Of unary.Len (Var 4 sort.List)))) ∷ []); locals = []; items = ((Data (Var 0 sort.Int) (Var 2 sort.Val) (Var 4 sort.List)) ∷ (Data (Var 1 sort.Int) (Var 3 sort.Val) (Var 5 sort.List)) ∷ []) }) }) (record { temps = (name_p ∷ []); body = (c.Then (c.Return None) c.End) }) (s.Then 1 (s.Law name_quot_lo ((Named name_s) ∷ (Number (pos 2)) ∷ []) ([])) s.NoBlock (s.Then 2 (s.Return ([]) ([]) ([])) s.NoBlock s.End)) ≡ (RefusedAt 2 9 3)
unfolding computing
edges_251 = refl

edges_252 : body_verdict (record { predicates = ([]); specs = ((record { is_void = true; name = name_f; params = (name_p ∷ []); vars = ((name_s, sort.Int) ∷ (name_t, sort.Int) ∷ (name_v, sort.Val) ∷ (name_w, sort.Val) ∷ (name_k, sort.List) ∷ (name_m, sort.List) ∷ []); pre = (record { opened = []; facts = ((Rel relation.Le (Number (pos 0)) (Var 0 sort.Int)) ∷ (Each (Var 4 sort.List) (Number (pos 0)) (Number (pos 9))) ∷ []); locals = []; items = ((Data (Var 0 sort.Int) (Var 2 sort.Val) (Var 4 sort.List)) ∷ (Data (Var 1 sort.Int) (Var 3 sort.Val) (Var 5 sort.List)) ∷ []) }); post = (record { opened = []; facts = ((Rel relation.Le (Of unary.Sum (Var 4 sort.List)) (Of2 binary.Mul (Number (pos 9)) (Of unary.Len (Var 4 sort.List)))) ∷ []); locals = []; items = ((Data (Var 0 sort.Int) (Var 2 sort.Val) (Var 4 sort.List)) ∷ (Data (Var 1 sort.Int) (Var 3 sort.Val) (Var 5 sort.List)) ∷ []) }) }) ∷ []) }) (record { is_void = true; name = name_f; params = (name_p ∷ []); vars = ((name_s, sort.Int) ∷ (name_t, sort.Int) ∷ (name_v, sort.Val) ∷ (name_w, sort.Val) ∷ (name_k, sort.List) ∷ (name_m, sort.List) ∷ []); pre = (record { opened = []; facts = ((Rel relation.Le (Number (pos 0)) (Var 0 sort.Int)) ∷ (Each (Var 4 sort.List) (Number (pos 0)) (Number (pos 9))) ∷ []); locals = []; items = ((Data (Var 0 sort.Int) (Var 2 sort.Val) (Var 4 sort.List)) ∷ (Data (Var 1 sort.Int) (Var 3 sort.Val) (Var 5 sort.List)) ∷ []) }); post = (record { opened = []; facts = ((Rel relation.Le (Of unary.Sum (Var 4 sort.List)) (Of2 binary.Mul (Number (pos 9)) (Of unary.Len (Var 4 sort.List)))) ∷ []); locals = []; items = ((Data (Var 0 sort.Int) (Var 2 sort.Val) (Var 4 sort.List)) ∷ (Data (Var 1 sort.Int) (Var 3 sort.Val) (Var 5 sort.List)) ∷ []) }) }) (record { temps = (name_p ∷ []); body = (c.Then (c.Return None) c.End) }) (s.Then 1 (s.Law name_quot_hi ((Named name_s) ∷ (Number (pos 2)) ∷ []) ([])) s.NoBlock (s.Then 2 (s.Return ([]) ([]) ([])) s.NoBlock s.End)) ≡ (RefusedAt 2 9 3)
unfolding computing
edges_252 = refl

edges_253 : body_verdict (record { predicates = ([]); specs = ((record { is_void = true; name = name_f; params = (name_p ∷ []); vars = ((name_s, sort.Int) ∷ (name_t, sort.Int) ∷ (name_v, sort.Val) ∷ (name_w, sort.Val) ∷ (name_k, sort.List) ∷ (name_m, sort.List) ∷ []); pre = (record { opened = []; facts = ((Rel relation.Le (Number (pos 0)) (Var 0 sort.Int)) ∷ (Each (Var 4 sort.List) (Number (pos 0)) (Number (pos 9))) ∷ []); locals = []; items = ((Data (Var 0 sort.Int) (Var 2 sort.Val) (Var 4 sort.List)) ∷ (Data (Var 1 sort.Int) (Var 3 sort.Val) (Var 5 sort.List)) ∷ []) }); post = (record { opened = []; facts = ((Rel relation.Le (Of unary.Sum (Var 4 sort.List)) (Of2 binary.Mul (Number (pos 9)) (Of unary.Len (Var 4 sort.List)))) ∷ []); locals = []; items = ((Data (Var 0 sort.Int) (Var 2 sort.Val) (Var 4 sort.List)) ∷ (Data (Var 1 sort.Int) (Var 3 sort.Val) (Var 5 sort.List)) ∷ []) }) }) ∷ []) }) (record { is_void = true; name = name_f; params = (name_p ∷ []); vars = ((name_s, sort.Int) ∷ (name_t, sort.Int) ∷ (name_v, sort.Val) ∷ (name_w, sort.Val) ∷ (name_k, sort.List) ∷ (name_m, sort.List) ∷ []); pre = (record { opened = []; facts = ((Rel relation.Le (Number (pos 0)) (Var 0 sort.Int)) ∷ (Each (Var 4 sort.List) (Number (pos 0)) (Number (pos 9))) ∷ []); locals = []; items = ((Data (Var 0 sort.Int) (Var 2 sort.Val) (Var 4 sort.List)) ∷ (Data (Var 1 sort.Int) (Var 3 sort.Val) (Var 5 sort.List)) ∷ []) }); post = (record { opened = []; facts = ((Rel relation.Le (Of unary.Sum (Var 4 sort.List)) (Of2 binary.Mul (Number (pos 9)) (Of unary.Len (Var 4 sort.List)))) ∷ []); locals = []; items = ((Data (Var 0 sort.Int) (Var 2 sort.Val) (Var 4 sort.List)) ∷ (Data (Var 1 sort.Int) (Var 3 sort.Val) (Var 5 sort.List)) ∷ []) }) }) (record { temps = (name_p ∷ []); body = (c.Then (c.Return None) c.End) }) (s.Then 1 (s.Law name_rem_eq ((Named name_s) ∷ (Number (pos 2)) ∷ []) ([])) s.NoBlock (s.Then 2 (s.Return ([]) ([]) ([])) s.NoBlock s.End)) ≡ (RefusedAt 2 9 3)
unfolding computing
edges_253 = refl

edges_254 : body_verdict (record { predicates = ([]); specs = ((record { is_void = true; name = name_f; params = (name_p ∷ []); vars = ((name_s, sort.Int) ∷ (name_t, sort.Int) ∷ (name_v, sort.Val) ∷ (name_w, sort.Val) ∷ (name_k, sort.List) ∷ (name_m, sort.List) ∷ []); pre = (record { opened = []; facts = ((Rel relation.Le (Number (pos 0)) (Var 0 sort.Int)) ∷ (Each (Var 4 sort.List) (Number (pos 0)) (Number (pos 9))) ∷ []); locals = []; items = ((Data (Var 0 sort.Int) (Var 2 sort.Val) (Var 4 sort.List)) ∷ (Data (Var 1 sort.Int) (Var 3 sort.Val) (Var 5 sort.List)) ∷ []) }); post = (record { opened = []; facts = ((Rel relation.Le (Of unary.Sum (Var 4 sort.List)) (Of2 binary.Mul (Number (pos 9)) (Of unary.Len (Var 4 sort.List)))) ∷ []); locals = []; items = ((Data (Var 0 sort.Int) (Var 2 sort.Val) (Var 4 sort.List)) ∷ (Data (Var 1 sort.Int) (Var 3 sort.Val) (Var 5 sort.List)) ∷ []) }) }) ∷ []) }) (record { is_void = true; name = name_f; params = (name_p ∷ []); vars = ((name_s, sort.Int) ∷ (name_t, sort.Int) ∷ (name_v, sort.Val) ∷ (name_w, sort.Val) ∷ (name_k, sort.List) ∷ (name_m, sort.List) ∷ []); pre = (record { opened = []; facts = ((Rel relation.Le (Number (pos 0)) (Var 0 sort.Int)) ∷ (Each (Var 4 sort.List) (Number (pos 0)) (Number (pos 9))) ∷ []); locals = []; items = ((Data (Var 0 sort.Int) (Var 2 sort.Val) (Var 4 sort.List)) ∷ (Data (Var 1 sort.Int) (Var 3 sort.Val) (Var 5 sort.List)) ∷ []) }); post = (record { opened = []; facts = ((Rel relation.Le (Of unary.Sum (Var 4 sort.List)) (Of2 binary.Mul (Number (pos 9)) (Of unary.Len (Var 4 sort.List)))) ∷ []); locals = []; items = ((Data (Var 0 sort.Int) (Var 2 sort.Val) (Var 4 sort.List)) ∷ (Data (Var 1 sort.Int) (Var 3 sort.Val) (Var 5 sort.List)) ∷ []) }) }) (record { temps = (name_p ∷ []); body = (c.Then (c.Return None) c.End) }) (s.Then 1 (s.Law name_sum_lo ((Named name_k) ∷ (Number (pos 0)) ∷ (Number (pos 9)) ∷ []) ([])) s.NoBlock (s.Then 2 (s.Return ([]) ([]) ([])) s.NoBlock s.End)) ≡ (RefusedAt 2 9 3)
unfolding computing
edges_254 = refl

edges_255 : body_verdict (record { predicates = ([]); specs = ((record { is_void = true; name = name_f; params = (name_p ∷ []); vars = ((name_s, sort.Int) ∷ (name_t, sort.Int) ∷ (name_v, sort.Val) ∷ (name_w, sort.Val) ∷ (name_k, sort.List) ∷ (name_m, sort.List) ∷ []); pre = (record { opened = []; facts = ((Rel relation.Le (Number (pos 0)) (Var 0 sort.Int)) ∷ (Each (Var 4 sort.List) (Number (pos 0)) (Number (pos 9))) ∷ []); locals = []; items = ((Data (Var 0 sort.Int) (Var 2 sort.Val) (Var 4 sort.List)) ∷ (Data (Var 1 sort.Int) (Var 3 sort.Val) (Var 5 sort.List)) ∷ []) }); post = (record { opened = []; facts = ((Rel relation.Le (Of unary.Sum (Var 4 sort.List)) (Of2 binary.Mul (Number (pos 9)) (Of unary.Len (Var 4 sort.List)))) ∷ []); locals = []; items = ((Data (Var 0 sort.Int) (Var 2 sort.Val) (Var 4 sort.List)) ∷ (Data (Var 1 sort.Int) (Var 3 sort.Val) (Var 5 sort.List)) ∷ []) }) }) ∷ []) }) (record { is_void = true; name = name_f; params = (name_p ∷ []); vars = ((name_s, sort.Int) ∷ (name_t, sort.Int) ∷ (name_v, sort.Val) ∷ (name_w, sort.Val) ∷ (name_k, sort.List) ∷ (name_m, sort.List) ∷ []); pre = (record { opened = []; facts = ((Rel relation.Le (Number (pos 0)) (Var 0 sort.Int)) ∷ (Each (Var 4 sort.List) (Number (pos 0)) (Number (pos 9))) ∷ []); locals = []; items = ((Data (Var 0 sort.Int) (Var 2 sort.Val) (Var 4 sort.List)) ∷ (Data (Var 1 sort.Int) (Var 3 sort.Val) (Var 5 sort.List)) ∷ []) }); post = (record { opened = []; facts = ((Rel relation.Le (Of unary.Sum (Var 4 sort.List)) (Of2 binary.Mul (Number (pos 9)) (Of unary.Len (Var 4 sort.List)))) ∷ []); locals = []; items = ((Data (Var 0 sort.Int) (Var 2 sort.Val) (Var 4 sort.List)) ∷ (Data (Var 1 sort.Int) (Var 3 sort.Val) (Var 5 sort.List)) ∷ []) }) }) (record { temps = (name_p ∷ []); body = (c.Then (c.Return None) c.End) }) (s.Then 1 (s.Law name_sum_hi ((Named name_k) ∷ (Number (pos 0)) ∷ (Number (pos 9)) ∷ []) ([])) s.NoBlock (s.Then 2 (s.Return ([]) ([]) ([])) s.NoBlock s.End)) ≡ Accepted
unfolding computing
edges_255 = refl

edges_256 : body_verdict (record { predicates = ([]); specs = ((record { is_void = true; name = name_f; params = (name_p ∷ []); vars = ((name_s, sort.Int) ∷ (name_t, sort.Int) ∷ (name_v, sort.Val) ∷ (name_w, sort.Val) ∷ (name_k, sort.List) ∷ (name_m, sort.List) ∷ []); pre = (record { opened = []; facts = ([]); locals = []; items = ((Data (Var 0 sort.Int) (Var 2 sort.Val) (Var 4 sort.List)) ∷ []) }); post = (record { opened = []; facts = ([]); locals = []; items = ((Data (Var 0 sort.Int) (Var 2 sort.Val) (Var 4 sort.List)) ∷ []) }) }) ∷ []) }) (record { is_void = true; name = name_f; params = (name_p ∷ []); vars = ((name_s, sort.Int) ∷ (name_t, sort.Int) ∷ (name_v, sort.Val) ∷ (name_w, sort.Val) ∷ (name_k, sort.List) ∷ (name_m, sort.List) ∷ []); pre = (record { opened = []; facts = ([]); locals = []; items = ((Data (Var 0 sort.Int) (Var 2 sort.Val) (Var 4 sort.List)) ∷ []) }); post = (record { opened = []; facts = ([]); locals = []; items = ((Data (Var 0 sort.Int) (Var 2 sort.Val) (Var 4 sort.List)) ∷ []) }) }) (record { temps = (name_p ∷ []); body = (c.Then (c.Return None) c.End) }) (s.Then 1 (s.Pose (record { opened = []; facts = ([]); locals = []; items = ((Data (Named name_s) (Named name_v) (Named name_k)) ∷ []) }) ([]) ([])) (s.WithBlock (s.Then 2 (s.Fall ([]) ([])) s.NoBlock s.End) s.NoBlock) (s.Then 3 (s.Return ([]) ([]) ([])) s.NoBlock s.End)) ≡ (RefusedAt 2 10 1)
unfolding computing
edges_256 = refl

edges_257 : body_verdict (record { predicates = ([]); specs = ((record { is_void = true; name = name_f; params = (name_p ∷ []); vars = ((name_s, sort.Int) ∷ (name_t, sort.Int) ∷ (name_v, sort.Val) ∷ (name_w, sort.Val) ∷ (name_k, sort.List) ∷ (name_m, sort.List) ∷ []); pre = (record { opened = []; facts = ([]); locals = []; items = ((Data (Var 0 sort.Int) (Var 2 sort.Val) (Var 4 sort.List)) ∷ []) }); post = (record { opened = []; facts = ([]); locals = []; items = ((Data (Var 0 sort.Int) (Var 2 sort.Val) (Var 4 sort.List)) ∷ []) }) }) ∷ []) }) (record { is_void = true; name = name_f; params = (name_p ∷ []); vars = ((name_s, sort.Int) ∷ (name_t, sort.Int) ∷ (name_v, sort.Val) ∷ (name_w, sort.Val) ∷ (name_k, sort.List) ∷ (name_m, sort.List) ∷ []); pre = (record { opened = []; facts = ([]); locals = []; items = ((Data (Var 0 sort.Int) (Var 2 sort.Val) (Var 4 sort.List)) ∷ []) }); post = (record { opened = []; facts = ([]); locals = []; items = ((Data (Var 0 sort.Int) (Var 2 sort.Val) (Var 4 sort.List)) ∷ []) }) }) (record { temps = (name_p ∷ []); body = (c.Then (c.Return None) c.End) }) (s.Then 1 (s.Pose (record { opened = []; facts = ([]); locals = []; items = ((Data (Named name_s) (Named name_v) (Named name_k)) ∷ []) }) ([]) ([])) (s.WithBlock (s.Then 2 (s.Meet ([]) ([])) s.NoBlock s.End) s.NoBlock) (s.Then 3 (s.Return ([]) ([]) ([])) s.NoBlock s.End)) ≡ Accepted
unfolding computing
edges_257 = refl

edges_258 : body_verdict (record { predicates = ([]); specs = ((record { is_void = true; name = name_f; params = (name_p ∷ []); vars = ((name_s, sort.Int) ∷ (name_t, sort.Int) ∷ (name_v, sort.Val) ∷ (name_w, sort.Val) ∷ (name_k, sort.List) ∷ (name_m, sort.List) ∷ []); pre = (record { opened = []; facts = ([]); locals = []; items = ((Data (Var 0 sort.Int) (Var 2 sort.Val) (Var 4 sort.List)) ∷ []) }); post = (record { opened = []; facts = ([]); locals = []; items = ((Data (Var 0 sort.Int) (Var 2 sort.Val) (Var 4 sort.List)) ∷ []) }) }) ∷ []) }) (record { is_void = true; name = name_f; params = (name_p ∷ []); vars = ((name_s, sort.Int) ∷ (name_t, sort.Int) ∷ (name_v, sort.Val) ∷ (name_w, sort.Val) ∷ (name_k, sort.List) ∷ (name_m, sort.List) ∷ []); pre = (record { opened = []; facts = ([]); locals = []; items = ((Data (Var 0 sort.Int) (Var 2 sort.Val) (Var 4 sort.List)) ∷ []) }); post = (record { opened = []; facts = ([]); locals = []; items = ((Data (Var 0 sort.Int) (Var 2 sort.Val) (Var 4 sort.List)) ∷ []) }) }) (record { temps = (name_p ∷ []); body = (c.Then (c.Return None) c.End) }) (s.Then 1 (s.Block 0 (record { opened = []; facts = ([]); locals = []; items = ((Data (Named name_s) (Named name_v) (Named name_k)) ∷ []) }) ([]) ([])) (s.WithBlock (s.Then 2 (s.Fall ([]) ([])) s.NoBlock s.End) s.NoBlock) (s.Then 3 (s.Return ([]) ([]) ([])) s.NoBlock s.End)) ≡ Accepted
unfolding computing
edges_258 = refl

edges_259 : body_verdict (record { predicates = ([]); specs = ((record { is_void = true; name = name_f; params = (name_p ∷ []); vars = ((name_s, sort.Int) ∷ (name_t, sort.Int) ∷ (name_v, sort.Val) ∷ (name_w, sort.Val) ∷ (name_k, sort.List) ∷ (name_m, sort.List) ∷ []); pre = (record { opened = []; facts = ([]); locals = []; items = ((Data (Var 0 sort.Int) (Var 2 sort.Val) (Var 4 sort.List)) ∷ []) }); post = (record { opened = []; facts = ([]); locals = []; items = ((Data (Var 0 sort.Int) (Var 2 sort.Val) (Var 4 sort.List)) ∷ []) }) }) ∷ []) }) (record { is_void = true; name = name_f; params = (name_p ∷ []); vars = ((name_s, sort.Int) ∷ (name_t, sort.Int) ∷ (name_v, sort.Val) ∷ (name_w, sort.Val) ∷ (name_k, sort.List) ∷ (name_m, sort.List) ∷ []); pre = (record { opened = []; facts = ([]); locals = []; items = ((Data (Var 0 sort.Int) (Var 2 sort.Val) (Var 4 sort.List)) ∷ []) }); post = (record { opened = []; facts = ([]); locals = []; items = ((Data (Var 0 sort.Int) (Var 2 sort.Val) (Var 4 sort.List)) ∷ []) }) }) (record { temps = (name_p ∷ []); body = (c.Then (c.Return None) c.End) }) (s.Then 1 (s.Block 0 (record { opened = []; facts = ([]); locals = []; items = ((Data (Named name_s) (Named name_v) (Named name_k)) ∷ []) }) ([]) ([])) (s.WithBlock (s.Then 2 (s.Meet ([]) ([])) s.NoBlock s.End) s.NoBlock) (s.Then 3 (s.Return ([]) ([]) ([])) s.NoBlock s.End)) ≡ (RefusedAt 2 37 1)
unfolding computing
edges_259 = refl

edges_260 : body_verdict (record { predicates = ([]); specs = ((record { is_void = true; name = name_f; params = (name_p ∷ []); vars = ((name_s, sort.Int) ∷ (name_t, sort.Int) ∷ (name_v, sort.Val) ∷ (name_w, sort.Val) ∷ (name_k, sort.List) ∷ (name_m, sort.List) ∷ []); pre = (record { opened = []; facts = ([]); locals = []; items = ((Data (Var 0 sort.Int) (Var 2 sort.Val) (Var 4 sort.List)) ∷ (Data (Var 1 sort.Int) (Var 3 sort.Val) (Var 5 sort.List)) ∷ []) }); post = (record { opened = []; facts = ([]); locals = []; items = ((Data (Var 0 sort.Int) (Var 2 sort.Val) (Var 4 sort.List)) ∷ (Data (Var 1 sort.Int) (Var 3 sort.Val) (Var 5 sort.List)) ∷ []) }) }) ∷ []) }) (record { is_void = true; name = name_f; params = (name_p ∷ []); vars = ((name_s, sort.Int) ∷ (name_t, sort.Int) ∷ (name_v, sort.Val) ∷ (name_w, sort.Val) ∷ (name_k, sort.List) ∷ (name_m, sort.List) ∷ []); pre = (record { opened = []; facts = ([]); locals = []; items = ((Data (Var 0 sort.Int) (Var 2 sort.Val) (Var 4 sort.List)) ∷ (Data (Var 1 sort.Int) (Var 3 sort.Val) (Var 5 sort.List)) ∷ []) }); post = (record { opened = []; facts = ([]); locals = []; items = ((Data (Var 0 sort.Int) (Var 2 sort.Val) (Var 4 sort.List)) ∷ (Data (Var 1 sort.Int) (Var 3 sort.Val) (Var 5 sort.List)) ∷ []) }) }) (record { temps = (name_p ∷ []); body = (c.Then (c.Return None) c.End) }) (s.Then 1 (s.Return ([]) ([]) ([])) s.NoBlock (s.Then 2 (s.Return ([]) ([]) ([])) s.NoBlock (s.Then 3 (s.Return ([]) ([]) ([])) s.NoBlock s.End))) ≡ (RefusedAt 2 0 11)
unfolding computing
edges_260 = refl

edges_261 : body_verdict (record { predicates = ([]); specs = ((record { is_void = true; name = name_f; params = (name_p ∷ []); vars = ((name_s, sort.Int) ∷ (name_t, sort.Int) ∷ (name_v, sort.Val) ∷ (name_w, sort.Val) ∷ (name_k, sort.List) ∷ (name_m, sort.List) ∷ []); pre = (record { opened = []; facts = ([]); locals = []; items = ((Data (Var 0 sort.Int) (Var 2 sort.Val) (Var 4 sort.List)) ∷ (Data (Var 1 sort.Int) (Var 3 sort.Val) (Var 5 sort.List)) ∷ []) }); post = (record { opened = []; facts = ([]); locals = []; items = ((Data (Var 0 sort.Int) (Var 2 sort.Val) (Var 4 sort.List)) ∷ (Data (Var 1 sort.Int) (Var 3 sort.Val) (Var 5 sort.List)) ∷ []) }) }) ∷ []) }) (record { is_void = true; name = name_f; params = (name_p ∷ []); vars = ((name_s, sort.Int) ∷ (name_t, sort.Int) ∷ (name_v, sort.Val) ∷ (name_w, sort.Val) ∷ (name_k, sort.List) ∷ (name_m, sort.List) ∷ []); pre = (record { opened = []; facts = ([]); locals = []; items = ((Data (Var 0 sort.Int) (Var 2 sort.Val) (Var 4 sort.List)) ∷ (Data (Var 1 sort.Int) (Var 3 sort.Val) (Var 5 sort.List)) ∷ []) }); post = (record { opened = []; facts = ([]); locals = []; items = ((Data (Var 0 sort.Int) (Var 2 sort.Val) (Var 4 sort.List)) ∷ (Data (Var 1 sort.Int) (Var 3 sort.Val) (Var 5 sort.List)) ∷ []) }) }) (record { temps = (name_p ∷ []); body = (c.Then (c.Return None) c.End) }) (s.Then 1 (s.Block 2 (record { opened = []; facts = ([]); locals = []; items = ([]) }) ([]) ([])) (s.WithBlock s.End s.NoBlock) (s.Then 2 (s.Return ([]) ([]) ([])) s.NoBlock s.End)) ≡ (RefusedAt 1 11 1)
unfolding computing
edges_261 = refl

edges_262 : body_verdict (record { predicates = ([]); specs = ((record { is_void = true; name = name_f; params = (name_p ∷ []); vars = ((name_s, sort.Int) ∷ (name_t, sort.Int) ∷ (name_v, sort.Val) ∷ (name_w, sort.Val) ∷ (name_k, sort.List) ∷ (name_m, sort.List) ∷ []); pre = (record { opened = []; facts = ([]); locals = []; items = ((Data (Var 0 sort.Int) (Var 2 sort.Val) (Var 4 sort.List)) ∷ []) }); post = (record { opened = []; facts = ([]); locals = []; items = ((Data (Var 0 sort.Int) (Var 2 sort.Val) (Var 4 sort.List)) ∷ []) }) }) ∷ []) }) (record { is_void = true; name = name_f; params = (name_p ∷ []); vars = ((name_s, sort.Int) ∷ (name_t, sort.Int) ∷ (name_v, sort.Val) ∷ (name_w, sort.Val) ∷ (name_k, sort.List) ∷ (name_m, sort.List) ∷ []); pre = (record { opened = []; facts = ([]); locals = []; items = ((Data (Var 0 sort.Int) (Var 2 sort.Val) (Var 4 sort.List)) ∷ []) }); post = (record { opened = []; facts = ([]); locals = []; items = ((Data (Var 0 sort.Int) (Var 2 sort.Val) (Var 4 sort.List)) ∷ []) }) }) (record { temps = (name_p ∷ []); body = (c.Then (c.Return None) c.End) }) (s.Then 1 (s.Block 1 (record { opened = []; facts = ([]); locals = []; items = ((Data (Named name_s) (Named name_v) (Named name_k)) ∷ []) }) ([]) ([])) (s.WithBlock (s.Then 2 (s.Return ([]) ([]) ([])) s.NoBlock s.End) s.NoBlock) (s.Then 3 (s.Fall ([]) ([])) s.NoBlock s.End)) ≡ Accepted
unfolding computing
edges_262 = refl
