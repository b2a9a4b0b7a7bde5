-- Each condition of each rule, where it holds and where it fails.
use Rattle.std.specs.Prelude.{◌≡◌, refl, pos, [], ◌∷◌, true, Some, None}
use Rattle.vd_terms.specs.Terms.{Number, Var, Named, Of, Of2}
use Rattle.vd_terms.specs.declared.assertion.FactOf.TheVariants.{Rel, IsInt, IsPtr, Each}
use Rattle.vd_terms.specs.declared.assertion.ItemOf.TheVariants.{Data, Lock}
use Rattle.vd_rules.specs.Computing.{computing}
use Rattle.vd_rules.specs.Verdicts.{Accepted, RefusedAt, body_verdict}
use Rattle.vd_terms.specs.declared.operation.Unary.TheVariants as unary
use Rattle.vd_terms.specs.declared.operation.Binary.TheVariants as binary
use Rattle.vd_logic.specs.declared.term.Sort.TheVariants as sort
use Rattle.vd_logic.specs.declared.assertion.Rel.TheVariants as relation
use Rattle.vd_steps.specs.Code as c
use Rattle.vd_steps.specs.Script as s
use Rattle.vd_examples.specs.Names.{name_A, name_f, name_k, name_m, name_p, name_s, name_t, name_v, name_w}

conditions_601 : body_verdict (record { predicates = ([]); specs = ((record { is_void = true; name = name_f; params = (name_p ∷ []); vars = ((name_s, sort.Int) ∷ (name_t, sort.Int) ∷ (name_v, sort.Val) ∷ (name_w, sort.Val) ∷ (name_k, sort.List) ∷ (name_m, sort.List) ∷ []); pre = (record { opened = []; facts = ((Rel relation.Lt (Var 1 sort.Int) (Var 0 sort.Int)) ∷ []); locals = []; items = ((Data (Var 0 sort.Int) (Var 2 sort.Val) (Var 4 sort.List)) ∷ (Data (Var 1 sort.Int) (Var 3 sort.Val) (Var 5 sort.List)) ∷ []) }); post = (record { opened = []; facts = ([]); locals = []; items = ((Data (Var 0 sort.Int) (Var 2 sort.Val) (Var 4 sort.List)) ∷ (Data (Var 1 sort.Int) (Var 3 sort.Val) (Var 5 sort.List)) ∷ []) }) }) ∷ []) }) (record { is_void = true; name = name_f; params = (name_p ∷ []); vars = ((name_s, sort.Int) ∷ (name_t, sort.Int) ∷ (name_v, sort.Val) ∷ (name_w, sort.Val) ∷ (name_k, sort.List) ∷ (name_m, sort.List) ∷ []); pre = (record { opened = []; facts = ((Rel relation.Lt (Var 1 sort.Int) (Var 0 sort.Int)) ∷ []); locals = []; items = ((Data (Var 0 sort.Int) (Var 2 sort.Val) (Var 4 sort.List)) ∷ (Data (Var 1 sort.Int) (Var 3 sort.Val) (Var 5 sort.List)) ∷ []) }); post = (record { opened = []; facts = ([]); locals = []; items = ((Data (Var 0 sort.Int) (Var 2 sort.Val) (Var 4 sort.List)) ∷ (Data (Var 1 sort.Int) (Var 3 sort.Val) (Var 5 sort.List)) ∷ []) }) }) (record { temps = (name_p ∷ []); body = (c.Then (c.Return None) c.End) }) (s.Then 1 (s.Have (Rel relation.Ne (Named name_s) (Named name_t)) ([])) s.NoBlock (s.Then 2 (s.Return ([]) ([]) ([])) s.NoBlock s.End)) ≡ (RefusedAt 1 25 3)
unfolding computing
conditions_601 = refl

conditions_602 : body_verdict (record { predicates = ([]); specs = ((record { is_void = true; name = name_f; params = (name_p ∷ []); vars = ((name_s, sort.Int) ∷ (name_t, sort.Int) ∷ (name_v, sort.Val) ∷ (name_w, sort.Val) ∷ (name_k, sort.List) ∷ (name_m, sort.List) ∷ []); pre = (record { opened = []; facts = ((Rel relation.Lt (Var 1 sort.Int) (Var 0 sort.Int)) ∷ []); locals = []; items = ((Data (Var 0 sort.Int) (Var 2 sort.Val) (Var 4 sort.List)) ∷ (Data (Var 1 sort.Int) (Var 3 sort.Val) (Var 5 sort.List)) ∷ []) }); post = (record { opened = []; facts = ([]); locals = []; items = ((Data (Var 0 sort.Int) (Var 2 sort.Val) (Var 4 sort.List)) ∷ (Data (Var 1 sort.Int) (Var 3 sort.Val) (Var 5 sort.List)) ∷ []) }) }) ∷ []) }) (record { is_void = true; name = name_f; params = (name_p ∷ []); vars = ((name_s, sort.Int) ∷ (name_t, sort.Int) ∷ (name_v, sort.Val) ∷ (name_w, sort.Val) ∷ (name_k, sort.List) ∷ (name_m, sort.List) ∷ []); pre = (record { opened = []; facts = ((Rel relation.Lt (Var 1 sort.Int) (Var 0 sort.Int)) ∷ []); locals = []; items = ((Data (Var 0 sort.Int) (Var 2 sort.Val) (Var 4 sort.List)) ∷ (Data (Var 1 sort.Int) (Var 3 sort.Val) (Var 5 sort.List)) ∷ []) }); post = (record { opened = []; facts = ([]); locals = []; items = ((Data (Var 0 sort.Int) (Var 2 sort.Val) (Var 4 sort.List)) ∷ (Data (Var 1 sort.Int) (Var 3 sort.Val) (Var 5 sort.List)) ∷ []) }) }) (record { temps = (name_p ∷ []); body = (c.Then (c.Return None) c.End) }) (s.Then 1 (s.Have (Rel relation.Le (Named name_s) (Named name_t)) ([])) s.NoBlock (s.Then 2 (s.Return ([]) ([]) ([])) s.NoBlock s.End)) ≡ (RefusedAt 1 25 3)
unfolding computing
conditions_602 = refl

conditions_603 : body_verdict (record { predicates = ([]); specs = ((record { is_void = true; name = name_f; params = (name_p ∷ []); vars = ((name_s, sort.Int) ∷ (name_t, sort.Int) ∷ (name_v, sort.Val) ∷ (name_w, sort.Val) ∷ (name_k, sort.List) ∷ (name_m, sort.List) ∷ []); pre = (record { opened = []; facts = ((Rel relation.Lt (Var 1 sort.Int) (Var 0 sort.Int)) ∷ []); locals = []; items = ((Data (Var 0 sort.Int) (Var 2 sort.Val) (Var 4 sort.List)) ∷ (Data (Var 1 sort.Int) (Var 3 sort.Val) (Var 5 sort.List)) ∷ []) }); post = (record { opened = []; facts = ([]); locals = []; items = ((Data (Var 0 sort.Int) (Var 2 sort.Val) (Var 4 sort.List)) ∷ (Data (Var 1 sort.Int) (Var 3 sort.Val) (Var 5 sort.List)) ∷ []) }) }) ∷ []) }) (record { is_void = true; name = name_f; params = (name_p ∷ []); vars = ((name_s, sort.Int) ∷ (name_t, sort.Int) ∷ (name_v, sort.Val) ∷ (name_w, sort.Val) ∷ (name_k, sort.List) ∷ (name_m, sort.List) ∷ []); pre = (record { opened = []; facts = ((Rel relation.Lt (Var 1 sort.Int) (Var 0 sort.Int)) ∷ []); locals = []; items = ((Data (Var 0 sort.Int) (Var 2 sort.Val) (Var 4 sort.List)) ∷ (Data (Var 1 sort.Int) (Var 3 sort.Val) (Var 5 sort.List)) ∷ []) }); post = (record { opened = []; facts = ([]); locals = []; items = ((Data (Var 0 sort.Int) (Var 2 sort.Val) (Var 4 sort.List)) ∷ (Data (Var 1 sort.Int) (Var 3 sort.Val) (Var 5 sort.List)) ∷ []) }) }) (record { temps = (name_p ∷ []); body = (c.Then (c.Return None) c.End) }) (s.Then 1 (s.Have (Rel relation.Lt (Named name_s) (Named name_t)) ([])) s.NoBlock (s.Then 2 (s.Return ([]) ([]) ([])) s.NoBlock s.End)) ≡ (RefusedAt 1 25 3)
unfolding computing
conditions_603 = refl

conditions_604 : body_verdict (record { predicates = ([]); specs = ((record { is_void = true; name = name_f; params = (name_p ∷ []); vars = ((name_s, sort.Int) ∷ (name_t, sort.Int) ∷ (name_v, sort.Val) ∷ (name_w, sort.Val) ∷ (name_k, sort.List) ∷ (name_m, sort.List) ∷ []); pre = (record { opened = []; facts = ((Rel relation.Lt (Var 1 sort.Int) (Var 0 sort.Int)) ∷ []); locals = []; items = ((Data (Var 0 sort.Int) (Var 2 sort.Val) (Var 4 sort.List)) ∷ (Data (Var 1 sort.Int) (Var 3 sort.Val) (Var 5 sort.List)) ∷ []) }); post = (record { opened = []; facts = ([]); locals = []; items = ((Data (Var 0 sort.Int) (Var 2 sort.Val) (Var 4 sort.List)) ∷ (Data (Var 1 sort.Int) (Var 3 sort.Val) (Var 5 sort.List)) ∷ []) }) }) ∷ []) }) (record { is_void = true; name = name_f; params = (name_p ∷ []); vars = ((name_s, sort.Int) ∷ (name_t, sort.Int) ∷ (name_v, sort.Val) ∷ (name_w, sort.Val) ∷ (name_k, sort.List) ∷ (name_m, sort.List) ∷ []); pre = (record { opened = []; facts = ((Rel relation.Lt (Var 1 sort.Int) (Var 0 sort.Int)) ∷ []); locals = []; items = ((Data (Var 0 sort.Int) (Var 2 sort.Val) (Var 4 sort.List)) ∷ (Data (Var 1 sort.Int) (Var 3 sort.Val) (Var 5 sort.List)) ∷ []) }); post = (record { opened = []; facts = ([]); locals = []; items = ((Data (Var 0 sort.Int) (Var 2 sort.Val) (Var 4 sort.List)) ∷ (Data (Var 1 sort.Int) (Var 3 sort.Val) (Var 5 sort.List)) ∷ []) }) }) (record { temps = (name_p ∷ []); body = (c.Then (c.Return None) c.End) }) (s.Then 1 (s.Have (Rel relation.Eq (Named name_v) (Named name_w)) ([])) s.NoBlock (s.Then 2 (s.Return ([]) ([]) ([])) s.NoBlock s.End)) ≡ (RefusedAt 1 25 3)
unfolding computing
conditions_604 = refl

conditions_605 : body_verdict (record { predicates = ([]); specs = ((record { is_void = true; name = name_f; params = (name_p ∷ []); vars = ((name_s, sort.Int) ∷ (name_t, sort.Int) ∷ (name_v, sort.Val) ∷ (name_w, sort.Val) ∷ (name_k, sort.List) ∷ (name_m, sort.List) ∷ []); pre = (record { opened = []; facts = ((Rel relation.Lt (Var 1 sort.Int) (Var 0 sort.Int)) ∷ []); locals = []; items = ((Data (Var 0 sort.Int) (Var 2 sort.Val) (Var 4 sort.List)) ∷ (Data (Var 1 sort.Int) (Var 3 sort.Val) (Var 5 sort.List)) ∷ []) }); post = (record { opened = []; facts = ([]); locals = []; items = ((Data (Var 0 sort.Int) (Var 2 sort.Val) (Var 4 sort.List)) ∷ (Data (Var 1 sort.Int) (Var 3 sort.Val) (Var 5 sort.List)) ∷ []) }) }) ∷ []) }) (record { is_void = true; name = name_f; params = (name_p ∷ []); vars = ((name_s, sort.Int) ∷ (name_t, sort.Int) ∷ (name_v, sort.Val) ∷ (name_w, sort.Val) ∷ (name_k, sort.List) ∷ (name_m, sort.List) ∷ []); pre = (record { opened = []; facts = ((Rel relation.Lt (Var 1 sort.Int) (Var 0 sort.Int)) ∷ []); locals = []; items = ((Data (Var 0 sort.Int) (Var 2 sort.Val) (Var 4 sort.List)) ∷ (Data (Var 1 sort.Int) (Var 3 sort.Val) (Var 5 sort.List)) ∷ []) }); post = (record { opened = []; facts = ([]); locals = []; items = ((Data (Var 0 sort.Int) (Var 2 sort.Val) (Var 4 sort.List)) ∷ (Data (Var 1 sort.Int) (Var 3 sort.Val) (Var 5 sort.List)) ∷ []) }) }) (record { temps = (name_p ∷ []); body = (c.Then (c.Return None) c.End) }) (s.Then 1 (s.Have (Rel relation.Ne (Named name_v) (Named name_w)) ([])) s.NoBlock (s.Then 2 (s.Return ([]) ([]) ([])) s.NoBlock s.End)) ≡ (RefusedAt 1 25 3)
unfolding computing
conditions_605 = refl

conditions_606 : body_verdict (record { predicates = ([]); specs = ((record { is_void = true; name = name_f; params = (name_p ∷ []); vars = ((name_s, sort.Int) ∷ (name_t, sort.Int) ∷ (name_v, sort.Val) ∷ (name_w, sort.Val) ∷ (name_k, sort.List) ∷ (name_m, sort.List) ∷ []); pre = (record { opened = []; facts = ((Rel relation.Le (Of2 binary.Add (Var 0 sort.Int) (Number (pos 1))) (Var 1 sort.Int)) ∷ []); locals = []; items = ((Data (Var 0 sort.Int) (Var 2 sort.Val) (Var 4 sort.List)) ∷ (Data (Var 1 sort.Int) (Var 3 sort.Val) (Var 5 sort.List)) ∷ []) }); post = (record { opened = []; facts = ([]); locals = []; items = ((Data (Var 0 sort.Int) (Var 2 sort.Val) (Var 4 sort.List)) ∷ (Data (Var 1 sort.Int) (Var 3 sort.Val) (Var 5 sort.List)) ∷ []) }) }) ∷ []) }) (record { is_void = true; name = name_f; params = (name_p ∷ []); vars = ((name_s, sort.Int) ∷ (name_t, sort.Int) ∷ (name_v, sort.Val) ∷ (name_w, sort.Val) ∷ (name_k, sort.List) ∷ (name_m, sort.List) ∷ []); pre = (record { opened = []; facts = ((Rel relation.Le (Of2 binary.Add (Var 0 sort.Int) (Number (pos 1))) (Var 1 sort.Int)) ∷ []); locals = []; items = ((Data (Var 0 sort.Int) (Var 2 sort.Val) (Var 4 sort.List)) ∷ (Data (Var 1 sort.Int) (Var 3 sort.Val) (Var 5 sort.List)) ∷ []) }); post = (record { opened = []; facts = ([]); locals = []; items = ((Data (Var 0 sort.Int) (Var 2 sort.Val) (Var 4 sort.List)) ∷ (Data (Var 1 sort.Int) (Var 3 sort.Val) (Var 5 sort.List)) ∷ []) }) }) (record { temps = (name_p ∷ []); body = (c.Then (c.Return None) c.End) }) (s.Then 1 (s.Have (Each (Named name_k) (Named name_s) (Named name_t)) ([])) s.NoBlock (s.Then 2 (s.Return ([]) ([]) ([])) s.NoBlock s.End)) ≡ (RefusedAt 1 25 3)
unfolding computing
conditions_606 = refl

conditions_607 : body_verdict (record { predicates = ([]); specs = ((record { is_void = true; name = name_f; params = (name_p ∷ []); vars = ((name_s, sort.Int) ∷ (name_t, sort.Int) ∷ (name_v, sort.Val) ∷ (name_w, sort.Val) ∷ (name_k, sort.List) ∷ (name_m, sort.List) ∷ []); pre = (record { opened = []; facts = ((Rel relation.Le (Of2 binary.Add (Var 0 sort.Int) (Number (pos 1))) (Var 1 sort.Int)) ∷ []); locals = []; items = ((Data (Var 0 sort.Int) (Var 2 sort.Val) (Var 4 sort.List)) ∷ (Data (Var 1 sort.Int) (Var 3 sort.Val) (Var 5 sort.List)) ∷ []) }); post = (record { opened = []; facts = ([]); locals = []; items = ((Data (Var 0 sort.Int) (Var 2 sort.Val) (Var 4 sort.List)) ∷ (Data (Var 1 sort.Int) (Var 3 sort.Val) (Var 5 sort.List)) ∷ []) }) }) ∷ []) }) (record { is_void = true; name = name_f; params = (name_p ∷ []); vars = ((name_s, sort.Int) ∷ (name_t, sort.Int) ∷ (name_v, sort.Val) ∷ (name_w, sort.Val) ∷ (name_k, sort.List) ∷ (name_m, sort.List) ∷ []); pre = (record { opened = []; facts = ((Rel relation.Le (Of2 binary.Add (Var 0 sort.Int) (Number (pos 1))) (Var 1 sort.Int)) ∷ []); locals = []; items = ((Data (Var 0 sort.Int) (Var 2 sort.Val) (Var 4 sort.List)) ∷ (Data (Var 1 sort.Int) (Var 3 sort.Val) (Var 5 sort.List)) ∷ []) }); post = (record { opened = []; facts = ([]); locals = []; items = ((Data (Var 0 sort.Int) (Var 2 sort.Val) (Var 4 sort.List)) ∷ (Data (Var 1 sort.Int) (Var 3 sort.Val) (Var 5 sort.List)) ∷ []) }) }) (record { temps = (name_p ∷ []); body = (c.Then (c.Return None) c.End) }) (s.Then 1 (s.Have (IsInt (Named name_v)) ([])) s.NoBlock (s.Then 2 (s.Return ([]) ([]) ([])) s.NoBlock s.End)) ≡ (RefusedAt 1 25 3)
unfolding computing
conditions_607 = refl

conditions_608 : body_verdict (record { predicates = ([]); specs = ((record { is_void = true; name = name_f; params = (name_p ∷ []); vars = ((name_s, sort.Int) ∷ (name_t, sort.Int) ∷ (name_v, sort.Val) ∷ (name_w, sort.Val) ∷ (name_k, sort.List) ∷ (name_m, sort.List) ∷ []); pre = (record { opened = []; facts = ((Rel relation.Le (Of2 binary.Add (Var 0 sort.Int) (Number (pos 1))) (Var 1 sort.Int)) ∷ []); locals = []; items = ((Data (Var 0 sort.Int) (Var 2 sort.Val) (Var 4 sort.List)) ∷ (Data (Var 1 sort.Int) (Var 3 sort.Val) (Var 5 sort.List)) ∷ []) }); post = (record { opened = []; facts = ([]); locals = []; items = ((Data (Var 0 sort.Int) (Var 2 sort.Val) (Var 4 sort.List)) ∷ (Data (Var 1 sort.Int) (Var 3 sort.Val) (Var 5 sort.List)) ∷ []) }) }) ∷ []) }) (record { is_void = true; name = name_f; params = (name_p ∷ []); vars = ((name_s, sort.Int) ∷ (name_t, sort.Int) ∷ (name_v, sort.Val) ∷ (name_w, sort.Val) ∷ (name_k, sort.List) ∷ (name_m, sort.List) ∷ []); pre = (record { opened = []; facts = ((Rel relation.Le (Of2 binary.Add (Var 0 sort.Int) (Number (pos 1))) (Var 1 sort.Int)) ∷ []); locals = []; items = ((Data (Var 0 sort.Int) (Var 2 sort.Val) (Var 4 sort.List)) ∷ (Data (Var 1 sort.Int) (Var 3 sort.Val) (Var 5 sort.List)) ∷ []) }); post = (record { opened = []; facts = ([]); locals = []; items = ((Data (Var 0 sort.Int) (Var 2 sort.Val) (Var 4 sort.List)) ∷ (Data (Var 1 sort.Int) (Var 3 sort.Val) (Var 5 sort.List)) ∷ []) }) }) (record { temps = (name_p ∷ []); body = (c.Then (c.Return None) c.End) }) (s.Then 1 (s.Have (IsPtr (Named name_v)) ([])) s.NoBlock (s.Then 2 (s.Return ([]) ([]) ([])) s.NoBlock s.End)) ≡ (RefusedAt 1 25 3)
unfolding computing
conditions_608 = refl

conditions_609 : body_verdict (record { predicates = ([]); specs = ((record { is_void = true; name = name_f; params = (name_p ∷ []); vars = ((name_s, sort.Int) ∷ (name_t, sort.Int) ∷ (name_v, sort.Val) ∷ (name_w, sort.Val) ∷ (name_k, sort.List) ∷ (name_m, sort.List) ∷ []); pre = (record { opened = []; facts = ((Rel relation.Le (Of2 binary.Add (Var 0 sort.Int) (Number (pos 1))) (Var 1 sort.Int)) ∷ []); locals = []; items = ((Data (Var 0 sort.Int) (Var 2 sort.Val) (Var 4 sort.List)) ∷ (Data (Var 1 sort.Int) (Var 3 sort.Val) (Var 5 sort.List)) ∷ []) }); post = (record { opened = []; facts = ([]); locals = []; items = ((Data (Var 0 sort.Int) (Var 2 sort.Val) (Var 4 sort.List)) ∷ (Data (Var 1 sort.Int) (Var 3 sort.Val) (Var 5 sort.List)) ∷ []) }) }) ∷ []) }) (record { is_void = true; name = name_f; params = (name_p ∷ []); vars = ((name_s, sort.Int) ∷ (name_t, sort.Int) ∷ (name_v, sort.Val) ∷ (name_w, sort.Val) ∷ (name_k, sort.List) ∷ (name_m, sort.List) ∷ []); pre = (record { opened = []; facts = ((Rel relation.Le (Of2 binary.Add (Var 0 sort.Int) (Number (pos 1))) (Var 1 sort.Int)) ∷ []); locals = []; items = ((Data (Var 0 sort.Int) (Var 2 sort.Val) (Var 4 sort.List)) ∷ (Data (Var 1 sort.Int) (Var 3 sort.Val) (Var 5 sort.List)) ∷ []) }); post = (record { opened = []; facts = ([]); locals = []; items = ((Data (Var 0 sort.Int) (Var 2 sort.Val) (Var 4 sort.List)) ∷ (Data (Var 1 sort.Int) (Var 3 sort.Val) (Var 5 sort.List)) ∷ []) }) }) (record { temps = (name_p ∷ []); body = (c.Then (c.Return None) c.End) }) (s.Then 1 (s.Have (Rel relation.Eq (Named name_s) (Named name_t)) ([])) s.NoBlock (s.Then 2 (s.Return ([]) ([]) ([])) s.NoBlock s.End)) ≡ (RefusedAt 1 25 3)
unfolding computing
conditions_609 = refl

conditions_610 : body_verdict (record { predicates = ([]); specs = ((record { is_void = true; name = name_f; params = (name_p ∷ []); vars = ((name_s, sort.Int) ∷ (name_t, sort.Int) ∷ (name_v, sort.Val) ∷ (name_w, sort.Val) ∷ (name_k, sort.List) ∷ (name_m, sort.List) ∷ []); pre = (record { opened = []; facts = ((Rel relation.Le (Of2 binary.Add (Var 0 sort.Int) (Number (pos 1))) (Var 1 sort.Int)) ∷ []); locals = []; items = ((Data (Var 0 sort.Int) (Var 2 sort.Val) (Var 4 sort.List)) ∷ (Data (Var 1 sort.Int) (Var 3 sort.Val) (Var 5 sort.List)) ∷ []) }); post = (record { opened = []; facts = ([]); locals = []; items = ((Data (Var 0 sort.Int) (Var 2 sort.Val) (Var 4 sort.List)) ∷ (Data (Var 1 sort.Int) (Var 3 sort.Val) (Var 5 sort.List)) ∷ []) }) }) ∷ []) }) (record { is_void = true; name = name_f; params = (name_p ∷ []); vars = ((name_s, sort.Int) ∷ (name_t, sort.Int) ∷ (name_v, sort.Val) ∷ (name_w, sort.Val) ∷ (name_k, sort.List) ∷ (name_m, sort.List) ∷ []); pre = (record { opened = []; facts = ((Rel relation.Le (Of2 binary.Add (Var 0 sort.Int) (Number (pos 1))) (Var 1 sort.Int)) ∷ []); locals = []; items = ((Data (Var 0 sort.Int) (Var 2 sort.Val) (Var 4 sort.List)) ∷ (Data (Var 1 sort.Int) (Var 3 sort.Val) (Var 5 sort.List)) ∷ []) }); post = (record { opened = []; facts = ([]); locals = []; items = ((Data (Var 0 sort.Int) (Var 2 sort.Val) (Var 4 sort.List)) ∷ (Data (Var 1 sort.Int) (Var 3 sort.Val) (Var 5 sort.List)) ∷ []) }) }) (record { temps = (name_p ∷ []); body = (c.Then (c.Return None) c.End) }) (s.Then 1 (s.Have (Rel relation.Ne (Named name_s) (Named name_t)) ([])) s.NoBlock (s.Then 2 (s.Return ([]) ([]) ([])) s.NoBlock s.End)) ≡ (RefusedAt 1 25 3)
unfolding computing
conditions_610 = refl

conditions_611 : body_verdict (record { predicates = ([]); specs = ((record { is_void = true; name = name_f; params = (name_p ∷ []); vars = ((name_s, sort.Int) ∷ (name_t, sort.Int) ∷ (name_v, sort.Val) ∷ (name_w, sort.Val) ∷ (name_k, sort.List) ∷ (name_m, sort.List) ∷ []); pre = (record { opened = []; facts = ((Rel relation.Le (Of2 binary.Add (Var 0 sort.Int) (Number (pos 1))) (Var 1 sort.Int)) ∷ []); locals = []; items = ((Data (Var 0 sort.Int) (Var 2 sort.Val) (Var 4 sort.List)) ∷ (Data (Var 1 sort.Int) (Var 3 sort.Val) (Var 5 sort.List)) ∷ []) }); post = (record { opened = []; facts = ([]); locals = []; items = ((Data (Var 0 sort.Int) (Var 2 sort.Val) (Var 4 sort.List)) ∷ (Data (Var 1 sort.Int) (Var 3 sort.Val) (Var 5 sort.List)) ∷ []) }) }) ∷ []) }) (record { is_void = true; name = name_f; params = (name_p ∷ []); vars = ((name_s, sort.Int) ∷ (name_t, sort.Int) ∷ (name_v, sort.Val) ∷ (name_w, sort.Val) ∷ (name_k, sort.List) ∷ (name_m, sort.List) ∷ []); pre = (record { opened = []; facts = ((Rel relation.Le (Of2 binary.Add (Var 0 sort.Int) (Number (pos 1))) (Var 1 sort.Int)) ∷ []); locals = []; items = ((Data (Var 0 sort.Int) (Var 2 sort.Val) (Var 4 sort.List)) ∷ (Data (Var 1 sort.Int) (Var 3 sort.Val) (Var 5 sort.List)) ∷ []) }); post = (record { opened = []; facts = ([]); locals = []; items = ((Data (Var 0 sort.Int) (Var 2 sort.Val) (Var 4 sort.List)) ∷ (Data (Var 1 sort.Int) (Var 3 sort.Val) (Var 5 sort.List)) ∷ []) }) }) (record { temps = (name_p ∷ []); body = (c.Then (c.Return None) c.End) }) (s.Then 1 (s.Have (Rel relation.Le (Named name_s) (Named name_t)) ([])) s.NoBlock (s.Then 2 (s.Return ([]) ([]) ([])) s.NoBlock s.End)) ≡ (RefusedAt 1 25 3)
unfolding computing
conditions_611 = refl

conditions_612 : body_verdict (record { predicates = ([]); specs = ((record { is_void = true; name = name_f; params = (name_p ∷ []); vars = ((name_s, sort.Int) ∷ (name_t, sort.Int) ∷ (name_v, sort.Val) ∷ (name_w, sort.Val) ∷ (name_k, sort.List) ∷ (name_m, sort.List) ∷ []); pre = (record { opened = []; facts = ((Rel relation.Le (Of2 binary.Add (Var 0 sort.Int) (Number (pos 1))) (Var 1 sort.Int)) ∷ []); locals = []; items = ((Data (Var 0 sort.Int) (Var 2 sort.Val) (Var 4 sort.List)) ∷ (Data (Var 1 sort.Int) (Var 3 sort.Val) (Var 5 sort.List)) ∷ []) }); post = (record { opened = []; facts = ([]); locals = []; items = ((Data (Var 0 sort.Int) (Var 2 sort.Val) (Var 4 sort.List)) ∷ (Data (Var 1 sort.Int) (Var 3 sort.Val) (Var 5 sort.List)) ∷ []) }) }) ∷ []) }) (record { is_void = true; name = name_f; params = (name_p ∷ []); vars = ((name_s, sort.Int) ∷ (name_t, sort.Int) ∷ (name_v, sort.Val) ∷ (name_w, sort.Val) ∷ (name_k, sort.List) ∷ (name_m, sort.List) ∷ []); pre = (record { opened = []; facts = ((Rel relation.Le (Of2 binary.Add (Var 0 sort.Int) (Number (pos 1))) (Var 1 sort.Int)) ∷ []); locals = []; items = ((Data (Var 0 sort.Int) (Var 2 sort.Val) (Var 4 sort.List)) ∷ (Data (Var 1 sort.Int) (Var 3 sort.Val) (Var 5 sort.List)) ∷ []) }); post = (record { opened = []; facts = ([]); locals = []; items = ((Data (Var 0 sort.Int) (Var 2 sort.Val) (Var 4 sort.List)) ∷ (Data (Var 1 sort.Int) (Var 3 sort.Val) (Var 5 sort.List)) ∷ []) }) }) (record { temps = (name_p ∷ []); body = (c.Then (c.Return None) c.End) }) (s.Then 1 (s.Have (Rel relation.Lt (Named name_s) (Named name_t)) ([])) s.NoBlock (s.Then 2 (s.Return ([]) ([]) ([])) s.NoBlock s.End)) ≡ Accepted
unfolding computing
conditions_612 = refl

conditions_613 : body_verdict (record { predicates = ([]); specs = ((record { is_void = true; name = name_f; params = (name_p ∷ []); vars = ((name_s, sort.Int) ∷ (name_t, sort.Int) ∷ (name_v, sort.Val) ∷ (name_w, sort.Val) ∷ (name_k, sort.List) ∷ (name_m, sort.List) ∷ []); pre = (record { opened = []; facts = ((Rel relation.Le (Of2 binary.Add (Var 0 sort.Int) (Number (pos 1))) (Var 1 sort.Int)) ∷ []); locals = []; items = ((Data (Var 0 sort.Int) (Var 2 sort.Val) (Var 4 sort.List)) ∷ (Data (Var 1 sort.Int) (Var 3 sort.Val) (Var 5 sort.List)) ∷ []) }); post = (record { opened = []; facts = ([]); locals = []; items = ((Data (Var 0 sort.Int) (Var 2 sort.Val) (Var 4 sort.List)) ∷ (Data (Var 1 sort.Int) (Var 3 sort.Val) (Var 5 sort.List)) ∷ []) }) }) ∷ []) }) (record { is_void = true; name = name_f; params = (name_p ∷ []); vars = ((name_s, sort.Int) ∷ (name_t, sort.Int) ∷ (name_v, sort.Val) ∷ (name_w, sort.Val) ∷ (name_k, sort.List) ∷ (name_m, sort.List) ∷ []); pre = (record { opened = []; facts = ((Rel relation.Le (Of2 binary.Add (Var 0 sort.Int) (Number (pos 1))) (Var 1 sort.Int)) ∷ []); locals = []; items = ((Data (Var 0 sort.Int) (Var 2 sort.Val) (Var 4 sort.List)) ∷ (Data (Var 1 sort.Int) (Var 3 sort.Val) (Var 5 sort.List)) ∷ []) }); post = (record { opened = []; facts = ([]); locals = []; items = ((Data (Var 0 sort.Int) (Var 2 sort.Val) (Var 4 sort.List)) ∷ (Data (Var 1 sort.Int) (Var 3 sort.Val) (Var 5 sort.List)) ∷ []) }) }) (record { temps = (name_p ∷ []); body = (c.Then (c.Return None) c.End) }) (s.Then 1 (s.Have (Rel relation.Eq (Named name_v) (Named name_w)) ([])) s.NoBlock (s.Then 2 (s.Return ([]) ([]) ([])) s.NoBlock s.End)) ≡ (RefusedAt 1 25 3)
unfolding computing
conditions_613 = refl

conditions_614 : body_verdict (record { predicates = ([]); specs = ((record { is_void = true; name = name_f; params = (name_p ∷ []); vars = ((name_s, sort.Int) ∷ (name_t, sort.Int) ∷ (name_v, sort.Val) ∷ (name_w, sort.Val) ∷ (name_k, sort.List) ∷ (name_m, sort.List) ∷ []); pre = (record { opened = []; facts = ((Rel relation.Le (Of2 binary.Add (Var 0 sort.Int) (Number (pos 1))) (Var 1 sort.Int)) ∷ []); locals = []; items = ((Data (Var 0 sort.Int) (Var 2 sort.Val) (Var 4 sort.List)) ∷ (Data (Var 1 sort.Int) (Var 3 sort.Val) (Var 5 sort.List)) ∷ []) }); post = (record { opened = []; facts = ([]); locals = []; items = ((Data (Var 0 sort.Int) (Var 2 sort.Val) (Var 4 sort.List)) ∷ (Data (Var 1 sort.Int) (Var 3 sort.Val) (Var 5 sort.List)) ∷ []) }) }) ∷ []) }) (record { is_void = true; name = name_f; params = (name_p ∷ []); vars = ((name_s, sort.Int) ∷ (name_t, sort.Int) ∷ (name_v, sort.Val) ∷ (name_w, sort.Val) ∷ (name_k, sort.List) ∷ (name_m, sort.List) ∷ []); pre = (record { opened = []; facts = ((Rel relation.Le (Of2 binary.Add (Var 0 sort.Int) (Number (pos 1))) (Var 1 sort.Int)) ∷ []); locals = []; items = ((Data (Var 0 sort.Int) (Var 2 sort.Val) (Var 4 sort.List)) ∷ (Data (Var 1 sort.Int) (Var 3 sort.Val) (Var 5 sort.List)) ∷ []) }); post = (record { opened = []; facts = ([]); locals = []; items = ((Data (Var 0 sort.Int) (Var 2 sort.Val) (Var 4 sort.List)) ∷ (Data (Var 1 sort.Int) (Var 3 sort.Val) (Var 5 sort.List)) ∷ []) }) }) (record { temps = (name_p ∷ []); body = (c.Then (c.Return None) c.End) }) (s.Then 1 (s.Have (Rel relation.Ne (Named name_v) (Named name_w)) ([])) s.NoBlock (s.Then 2 (s.Return ([]) ([]) ([])) s.NoBlock s.End)) ≡ (RefusedAt 1 25 3)
unfolding computing
conditions_614 = refl

conditions_615 : body_verdict (record { predicates = ([]); specs = ((record { is_void = true; name = name_f; params = (name_p ∷ []); vars = ((name_s, sort.Int) ∷ (name_t, sort.Int) ∷ (name_v, sort.Val) ∷ (name_w, sort.Val) ∷ (name_k, sort.List) ∷ (name_m, sort.List) ∷ []); pre = (record { opened = []; facts = ((Rel relation.Eq (Var 2 sort.Val) (Var 3 sort.Val)) ∷ []); locals = []; items = ((Data (Var 0 sort.Int) (Var 2 sort.Val) (Var 4 sort.List)) ∷ (Data (Var 1 sort.Int) (Var 3 sort.Val) (Var 5 sort.List)) ∷ []) }); post = (record { opened = []; facts = ([]); locals = []; items = ((Data (Var 0 sort.Int) (Var 2 sort.Val) (Var 4 sort.List)) ∷ (Data (Var 1 sort.Int) (Var 3 sort.Val) (Var 5 sort.List)) ∷ []) }) }) ∷ []) }) (record { is_void = true; name = name_f; params = (name_p ∷ []); vars = ((name_s, sort.Int) ∷ (name_t, sort.Int) ∷ (name_v, sort.Val) ∷ (name_w, sort.Val) ∷ (name_k, sort.List) ∷ (name_m, sort.List) ∷ []); pre = (record { opened = []; facts = ((Rel relation.Eq (Var 2 sort.Val) (Var 3 sort.Val)) ∷ []); locals = []; items = ((Data (Var 0 sort.Int) (Var 2 sort.Val) (Var 4 sort.List)) ∷ (Data (Var 1 sort.Int) (Var 3 sort.Val) (Var 5 sort.List)) ∷ []) }); post = (record { opened = []; facts = ([]); locals = []; items = ((Data (Var 0 sort.Int) (Var 2 sort.Val) (Var 4 sort.List)) ∷ (Data (Var 1 sort.Int) (Var 3 sort.Val) (Var 5 sort.List)) ∷ []) }) }) (record { temps = (name_p ∷ []); body = (c.Then (c.Return None) c.End) }) (s.Then 1 (s.Have (Each (Named name_k) (Named name_s) (Named name_t)) ([])) s.NoBlock (s.Then 2 (s.Return ([]) ([]) ([])) s.NoBlock s.End)) ≡ (RefusedAt 1 25 3)
unfolding computing
conditions_615 = refl

conditions_616 : body_verdict (record { predicates = ([]); specs = ((record { is_void = true; name = name_f; params = (name_p ∷ []); vars = ((name_s, sort.Int) ∷ (name_t, sort.Int) ∷ (name_v, sort.Val) ∷ (name_w, sort.Val) ∷ (name_k, sort.List) ∷ (name_m, sort.List) ∷ []); pre = (record { opened = []; facts = ((Rel relation.Eq (Var 2 sort.Val) (Var 3 sort.Val)) ∷ []); locals = []; items = ((Data (Var 0 sort.Int) (Var 2 sort.Val) (Var 4 sort.List)) ∷ (Data (Var 1 sort.Int) (Var 3 sort.Val) (Var 5 sort.List)) ∷ []) }); post = (record { opened = []; facts = ([]); locals = []; items = ((Data (Var 0 sort.Int) (Var 2 sort.Val) (Var 4 sort.List)) ∷ (Data (Var 1 sort.Int) (Var 3 sort.Val) (Var 5 sort.List)) ∷ []) }) }) ∷ []) }) (record { is_void = true; name = name_f; params = (name_p ∷ []); vars = ((name_s, sort.Int) ∷ (name_t, sort.Int) ∷ (name_v, sort.Val) ∷ (name_w, sort.Val) ∷ (name_k, sort.List) ∷ (name_m, sort.List) ∷ []); pre = (record { opened = []; facts = ((Rel relation.Eq (Var 2 sort.Val) (Var 3 sort.Val)) ∷ []); locals = []; items = ((Data (Var 0 sort.Int) (Var 2 sort.Val) (Var 4 sort.List)) ∷ (Data (Var 1 sort.Int) (Var 3 sort.Val) (Var 5 sort.List)) ∷ []) }); post = (record { opened = []; facts = ([]); locals = []; items = ((Data (Var 0 sort.Int) (Var 2 sort.Val) (Var 4 sort.List)) ∷ (Data (Var 1 sort.Int) (Var 3 sort.Val) (Var 5 sort.List)) ∷ []) }) }) (record { temps = (name_p ∷ []); body = (c.Then (c.Return None) c.End) }) (s.Then 1 (s.Have (IsInt (Named name_v)) ([])) s.NoBlock (s.Then 2 (s.Return ([]) ([]) ([])) s.NoBlock s.End)) ≡ (RefusedAt 1 25 3)
unfolding computing
conditions_616 = refl

conditions_617 : body_verdict (record { predicates = ([]); specs = ((record { is_void = true; name = name_f; params = (name_p ∷ []); vars = ((name_s, sort.Int) ∷ (name_t, sort.Int) ∷ (name_v, sort.Val) ∷ (name_w, sort.Val) ∷ (name_k, sort.List) ∷ (name_m, sort.List) ∷ []); pre = (record { opened = []; facts = ((Rel relation.Eq (Var 2 sort.Val) (Var 3 sort.Val)) ∷ []); locals = []; items = ((Data (Var 0 sort.Int) (Var 2 sort.Val) (Var 4 sort.List)) ∷ (Data (Var 1 sort.Int) (Var 3 sort.Val) (Var 5 sort.List)) ∷ []) }); post = (record { opened = []; facts = ([]); locals = []; items = ((Data (Var 0 sort.Int) (Var 2 sort.Val) (Var 4 sort.List)) ∷ (Data (Var 1 sort.Int) (Var 3 sort.Val) (Var 5 sort.List)) ∷ []) }) }) ∷ []) }) (record { is_void = true; name = name_f; params = (name_p ∷ []); vars = ((name_s, sort.Int) ∷ (name_t, sort.Int) ∷ (name_v, sort.Val) ∷ (name_w, sort.Val) ∷ (name_k, sort.List) ∷ (name_m, sort.List) ∷ []); pre = (record { opened = []; facts = ((Rel relation.Eq (Var 2 sort.Val) (Var 3 sort.Val)) ∷ []); locals = []; items = ((Data (Var 0 sort.Int) (Var 2 sort.Val) (Var 4 sort.List)) ∷ (Data (Var 1 sort.Int) (Var 3 sort.Val) (Var 5 sort.List)) ∷ []) }); post = (record { opened = []; facts = ([]); locals = []; items = ((Data (Var 0 sort.Int) (Var 2 sort.Val) (Var 4 sort.List)) ∷ (Data (Var 1 sort.Int) (Var 3 sort.Val) (Var 5 sort.List)) ∷ []) }) }) (record { temps = (name_p ∷ []); body = (c.Then (c.Return None) c.End) }) (s.Then 1 (s.Have (IsPtr (Named name_v)) ([])) s.NoBlock (s.Then 2 (s.Return ([]) ([]) ([])) s.NoBlock s.End)) ≡ (RefusedAt 1 25 3)
unfolding computing
conditions_617 = refl

conditions_618 : body_verdict (record { predicates = ([]); specs = ((record { is_void = true; name = name_f; params = (name_p ∷ []); vars = ((name_s, sort.Int) ∷ (name_t, sort.Int) ∷ (name_v, sort.Val) ∷ (name_w, sort.Val) ∷ (name_k, sort.List) ∷ (name_m, sort.List) ∷ []); pre = (record { opened = []; facts = ((Rel relation.Eq (Var 2 sort.Val) (Var 3 sort.Val)) ∷ []); locals = []; items = ((Data (Var 0 sort.Int) (Var 2 sort.Val) (Var 4 sort.List)) ∷ (Data (Var 1 sort.Int) (Var 3 sort.Val) (Var 5 sort.List)) ∷ []) }); post = (record { opened = []; facts = ([]); locals = []; items = ((Data (Var 0 sort.Int) (Var 2 sort.Val) (Var 4 sort.List)) ∷ (Data (Var 1 sort.Int) (Var 3 sort.Val) (Var 5 sort.List)) ∷ []) }) }) ∷ []) }) (record { is_void = true; name = name_f; params = (name_p ∷ []); vars = ((name_s, sort.Int) ∷ (name_t, sort.Int) ∷ (name_v, sort.Val) ∷ (name_w, sort.Val) ∷ (name_k, sort.List) ∷ (name_m, sort.List) ∷ []); pre = (record { opened = []; facts = ((Rel relation.Eq (Var 2 sort.Val) (Var 3 sort.Val)) ∷ []); locals = []; items = ((Data (Var 0 sort.Int) (Var 2 sort.Val) (Var 4 sort.List)) ∷ (Data (Var 1 sort.Int) (Var 3 sort.Val) (Var 5 sort.List)) ∷ []) }); post = (record { opened = []; facts = ([]); locals = []; items = ((Data (Var 0 sort.Int) (Var 2 sort.Val) (Var 4 sort.List)) ∷ (Data (Var 1 sort.Int) (Var 3 sort.Val) (Var 5 sort.List)) ∷ []) }) }) (record { temps = (name_p ∷ []); body = (c.Then (c.Return None) c.End) }) (s.Then 1 (s.Have (Rel relation.Eq (Named name_s) (Named name_t)) ([])) s.NoBlock (s.Then 2 (s.Return ([]) ([]) ([])) s.NoBlock s.End)) ≡ (RefusedAt 1 25 3)
unfolding computing
conditions_618 = refl

conditions_619 : body_verdict (record { predicates = ([]); specs = ((record { is_void = true; name = name_f; params = (name_p ∷ []); vars = ((name_s, sort.Int) ∷ (name_t, sort.Int) ∷ (name_v, sort.Val) ∷ (name_w, sort.Val) ∷ (name_k, sort.List) ∷ (name_m, sort.List) ∷ []); pre = (record { opened = []; facts = ((Rel relation.Eq (Var 2 sort.Val) (Var 3 sort.Val)) ∷ []); locals = []; items = ((Data (Var 0 sort.Int) (Var 2 sort.Val) (Var 4 sort.List)) ∷ (Data (Var 1 sort.Int) (Var 3 sort.Val) (Var 5 sort.List)) ∷ []) }); post = (record { opened = []; facts = ([]); locals = []; items = ((Data (Var 0 sort.Int) (Var 2 sort.Val) (Var 4 sort.List)) ∷ (Data (Var 1 sort.Int) (Var 3 sort.Val) (Var 5 sort.List)) ∷ []) }) }) ∷ []) }) (record { is_void = true; name = name_f; params = (name_p ∷ []); vars = ((name_s, sort.Int) ∷ (name_t, sort.Int) ∷ (name_v, sort.Val) ∷ (name_w, sort.Val) ∷ (name_k, sort.List) ∷ (name_m, sort.List) ∷ []); pre = (record { opened = []; facts = ((Rel relation.Eq (Var 2 sort.Val) (Var 3 sort.Val)) ∷ []); locals = []; items = ((Data (Var 0 sort.Int) (Var 2 sort.Val) (Var 4 sort.List)) ∷ (Data (Var 1 sort.Int) (Var 3 sort.Val) (Var 5 sort.List)) ∷ []) }); post = (record { opened = []; facts = ([]); locals = []; items = ((Data (Var 0 sort.Int) (Var 2 sort.Val) (Var 4 sort.List)) ∷ (Data (Var 1 sort.Int) (Var 3 sort.Val) (Var 5 sort.List)) ∷ []) }) }) (record { temps = (name_p ∷ []); body = (c.Then (c.Return None) c.End) }) (s.Then 1 (s.Have (Rel relation.Ne (Named name_s) (Named name_t)) ([])) s.NoBlock (s.Then 2 (s.Return ([]) ([]) ([])) s.NoBlock s.End)) ≡ (RefusedAt 1 25 3)
unfolding computing
conditions_619 = refl

conditions_620 : body_verdict (record { predicates = ([]); specs = ((record { is_void = true; name = name_f; params = (name_p ∷ []); vars = ((name_s, sort.Int) ∷ (name_t, sort.Int) ∷ (name_v, sort.Val) ∷ (name_w, sort.Val) ∷ (name_k, sort.List) ∷ (name_m, sort.List) ∷ []); pre = (record { opened = []; facts = ((Rel relation.Eq (Var 2 sort.Val) (Var 3 sort.Val)) ∷ []); locals = []; items = ((Data (Var 0 sort.Int) (Var 2 sort.Val) (Var 4 sort.List)) ∷ (Data (Var 1 sort.Int) (Var 3 sort.Val) (Var 5 sort.List)) ∷ []) }); post = (record { opened = []; facts = ([]); locals = []; items = ((Data (Var 0 sort.Int) (Var 2 sort.Val) (Var 4 sort.List)) ∷ (Data (Var 1 sort.Int) (Var 3 sort.Val) (Var 5 sort.List)) ∷ []) }) }) ∷ []) }) (record { is_void = true; name = name_f; params = (name_p ∷ []); vars = ((name_s, sort.Int) ∷ (name_t, sort.Int) ∷ (name_v, sort.Val) ∷ (name_w, sort.Val) ∷ (name_k, sort.List) ∷ (name_m, sort.List) ∷ []); pre = (record { opened = []; facts = ((Rel relation.Eq (Var 2 sort.Val) (Var 3 sort.Val)) ∷ []); locals = []; items = ((Data (Var 0 sort.Int) (Var 2 sort.Val) (Var 4 sort.List)) ∷ (Data (Var 1 sort.Int) (Var 3 sort.Val) (Var 5 sort.List)) ∷ []) }); post = (record { opened = []; facts = ([]); locals = []; items = ((Data (Var 0 sort.Int) (Var 2 sort.Val) (Var 4 sort.List)) ∷ (Data (Var 1 sort.Int) (Var 3 sort.Val) (Var 5 sort.List)) ∷ []) }) }) (record { temps = (name_p ∷ []); body = (c.Then (c.Return None) c.End) }) (s.Then 1 (s.Have (Rel relation.Le (Named name_s) (Named name_t)) ([])) s.NoBlock (s.Then 2 (s.Return ([]) ([]) ([])) s.NoBlock s.End)) ≡ (RefusedAt 1 25 3)
unfolding computing
conditions_620 = refl

conditions_621 : body_verdict (record { predicates = ([]); specs = ((record { is_void = true; name = name_f; params = (name_p ∷ []); vars = ((name_s, sort.Int) ∷ (name_t, sort.Int) ∷ (name_v, sort.Val) ∷ (name_w, sort.Val) ∷ (name_k, sort.List) ∷ (name_m, sort.List) ∷ []); pre = (record { opened = []; facts = ((Rel relation.Eq (Var 2 sort.Val) (Var 3 sort.Val)) ∷ []); locals = []; items = ((Data (Var 0 sort.Int) (Var 2 sort.Val) (Var 4 sort.List)) ∷ (Data (Var 1 sort.Int) (Var 3 sort.Val) (Var 5 sort.List)) ∷ []) }); post = (record { opened = []; facts = ([]); locals = []; items = ((Data (Var 0 sort.Int) (Var 2 sort.Val) (Var 4 sort.List)) ∷ (Data (Var 1 sort.Int) (Var 3 sort.Val) (Var 5 sort.List)) ∷ []) }) }) ∷ []) }) (record { is_void = true; name = name_f; params = (name_p ∷ []); vars = ((name_s, sort.Int) ∷ (name_t, sort.Int) ∷ (name_v, sort.Val) ∷ (name_w, sort.Val) ∷ (name_k, sort.List) ∷ (name_m, sort.List) ∷ []); pre = (record { opened = []; facts = ((Rel relation.Eq (Var 2 sort.Val) (Var 3 sort.Val)) ∷ []); locals = []; items = ((Data (Var 0 sort.Int) (Var 2 sort.Val) (Var 4 sort.List)) ∷ (Data (Var 1 sort.Int) (Var 3 sort.Val) (Var 5 sort.List)) ∷ []) }); post = (record { opened = []; facts = ([]); locals = []; items = ((Data (Var 0 sort.Int) (Var 2 sort.Val) (Var 4 sort.List)) ∷ (Data (Var 1 sort.Int) (Var 3 sort.Val) (Var 5 sort.List)) ∷ []) }) }) (record { temps = (name_p ∷ []); body = (c.Then (c.Return None) c.End) }) (s.Then 1 (s.Have (Rel relation.Lt (Named name_s) (Named name_t)) ([])) s.NoBlock (s.Then 2 (s.Return ([]) ([]) ([])) s.NoBlock s.End)) ≡ (RefusedAt 1 25 3)
unfolding computing
conditions_621 = refl

conditions_622 : body_verdict (record { predicates = ([]); specs = ((record { is_void = true; name = name_f; params = (name_p ∷ []); vars = ((name_s, sort.Int) ∷ (name_t, sort.Int) ∷ (name_v, sort.Val) ∷ (name_w, sort.Val) ∷ (name_k, sort.List) ∷ (name_m, sort.List) ∷ []); pre = (record { opened = []; facts = ((Rel relation.Eq (Var 2 sort.Val) (Var 3 sort.Val)) ∷ []); locals = []; items = ((Data (Var 0 sort.Int) (Var 2 sort.Val) (Var 4 sort.List)) ∷ (Data (Var 1 sort.Int) (Var 3 sort.Val) (Var 5 sort.List)) ∷ []) }); post = (record { opened = []; facts = ([]); locals = []; items = ((Data (Var 0 sort.Int) (Var 2 sort.Val) (Var 4 sort.List)) ∷ (Data (Var 1 sort.Int) (Var 3 sort.Val) (Var 5 sort.List)) ∷ []) }) }) ∷ []) }) (record { is_void = true; name = name_f; params = (name_p ∷ []); vars = ((name_s, sort.Int) ∷ (name_t, sort.Int) ∷ (name_v, sort.Val) ∷ (name_w, sort.Val) ∷ (name_k, sort.List) ∷ (name_m, sort.List) ∷ []); pre = (record { opened = []; facts = ((Rel relation.Eq (Var 2 sort.Val) (Var 3 sort.Val)) ∷ []); locals = []; items = ((Data (Var 0 sort.Int) (Var 2 sort.Val) (Var 4 sort.List)) ∷ (Data (Var 1 sort.Int) (Var 3 sort.Val) (Var 5 sort.List)) ∷ []) }); post = (record { opened = []; facts = ([]); locals = []; items = ((Data (Var 0 sort.Int) (Var 2 sort.Val) (Var 4 sort.List)) ∷ (Data (Var 1 sort.Int) (Var 3 sort.Val) (Var 5 sort.List)) ∷ []) }) }) (record { temps = (name_p ∷ []); body = (c.Then (c.Return None) c.End) }) (s.Then 1 (s.Have (Rel relation.Eq (Named name_v) (Named name_w)) ([])) s.NoBlock (s.Then 2 (s.Return ([]) ([]) ([])) s.NoBlock s.End)) ≡ Accepted
unfolding computing
conditions_622 = refl

conditions_623 : body_verdict (record { predicates = ([]); specs = ((record { is_void = true; name = name_f; params = (name_p ∷ []); vars = ((name_s, sort.Int) ∷ (name_t, sort.Int) ∷ (name_v, sort.Val) ∷ (name_w, sort.Val) ∷ (name_k, sort.List) ∷ (name_m, sort.List) ∷ []); pre = (record { opened = []; facts = ((Rel relation.Eq (Var 2 sort.Val) (Var 3 sort.Val)) ∷ []); locals = []; items = ((Data (Var 0 sort.Int) (Var 2 sort.Val) (Var 4 sort.List)) ∷ (Data (Var 1 sort.Int) (Var 3 sort.Val) (Var 5 sort.List)) ∷ []) }); post = (record { opened = []; facts = ([]); locals = []; items = ((Data (Var 0 sort.Int) (Var 2 sort.Val) (Var 4 sort.List)) ∷ (Data (Var 1 sort.Int) (Var 3 sort.Val) (Var 5 sort.List)) ∷ []) }) }) ∷ []) }) (record { is_void = true; name = name_f; params = (name_p ∷ []); vars = ((name_s, sort.Int) ∷ (name_t, sort.Int) ∷ (name_v, sort.Val) ∷ (name_w, sort.Val) ∷ (name_k, sort.List) ∷ (name_m, sort.List) ∷ []); pre = (record { opened = []; facts = ((Rel relation.Eq (Var 2 sort.Val) (Var 3 sort.Val)) ∷ []); locals = []; items = ((Data (Var 0 sort.Int) (Var 2 sort.Val) (Var 4 sort.List)) ∷ (Data (Var 1 sort.Int) (Var 3 sort.Val) (Var 5 sort.List)) ∷ []) }); post = (record { opened = []; facts = ([]); locals = []; items = ((Data (Var 0 sort.Int) (Var 2 sort.Val) (Var 4 sort.List)) ∷ (Data (Var 1 sort.Int) (Var 3 sort.Val) (Var 5 sort.List)) ∷ []) }) }) (record { temps = (name_p ∷ []); body = (c.Then (c.Return None) c.End) }) (s.Then 1 (s.Have (Rel relation.Ne (Named name_v) (Named name_w)) ([])) s.NoBlock (s.Then 2 (s.Return ([]) ([]) ([])) s.NoBlock s.End)) ≡ (RefusedAt 1 25 3)
unfolding computing
conditions_623 = refl

conditions_624 : body_verdict (record { predicates = ([]); specs = ((record { is_void = true; name = name_f; params = (name_p ∷ []); vars = ((name_s, sort.Int) ∷ (name_t, sort.Int) ∷ (name_v, sort.Val) ∷ (name_w, sort.Val) ∷ (name_k, sort.List) ∷ (name_m, sort.List) ∷ []); pre = (record { opened = []; facts = ((Rel relation.Eq (Var 3 sort.Val) (Var 2 sort.Val)) ∷ []); locals = []; items = ((Data (Var 0 sort.Int) (Var 2 sort.Val) (Var 4 sort.List)) ∷ (Data (Var 1 sort.Int) (Var 3 sort.Val) (Var 5 sort.List)) ∷ []) }); post = (record { opened = []; facts = ([]); locals = []; items = ((Data (Var 0 sort.Int) (Var 2 sort.Val) (Var 4 sort.List)) ∷ (Data (Var 1 sort.Int) (Var 3 sort.Val) (Var 5 sort.List)) ∷ []) }) }) ∷ []) }) (record { is_void = true; name = name_f; params = (name_p ∷ []); vars = ((name_s, sort.Int) ∷ (name_t, sort.Int) ∷ (name_v, sort.Val) ∷ (name_w, sort.Val) ∷ (name_k, sort.List) ∷ (name_m, sort.List) ∷ []); pre = (record { opened = []; facts = ((Rel relation.Eq (Var 3 sort.Val) (Var 2 sort.Val)) ∷ []); locals = []; items = ((Data (Var 0 sort.Int) (Var 2 sort.Val) (Var 4 sort.List)) ∷ (Data (Var 1 sort.Int) (Var 3 sort.Val) (Var 5 sort.List)) ∷ []) }); post = (record { opened = []; facts = ([]); locals = []; items = ((Data (Var 0 sort.Int) (Var 2 sort.Val) (Var 4 sort.List)) ∷ (Data (Var 1 sort.Int) (Var 3 sort.Val) (Var 5 sort.List)) ∷ []) }) }) (record { temps = (name_p ∷ []); body = (c.Then (c.Return None) c.End) }) (s.Then 1 (s.Have (Each (Named name_k) (Named name_s) (Named name_t)) ([])) s.NoBlock (s.Then 2 (s.Return ([]) ([]) ([])) s.NoBlock s.End)) ≡ (RefusedAt 1 25 3)
unfolding computing
conditions_624 = refl

conditions_625 : body_verdict (record { predicates = ([]); specs = ((record { is_void = true; name = name_f; params = (name_p ∷ []); vars = ((name_s, sort.Int) ∷ (name_t, sort.Int) ∷ (name_v, sort.Val) ∷ (name_w, sort.Val) ∷ (name_k, sort.List) ∷ (name_m, sort.List) ∷ []); pre = (record { opened = []; facts = ((Rel relation.Eq (Var 3 sort.Val) (Var 2 sort.Val)) ∷ []); locals = []; items = ((Data (Var 0 sort.Int) (Var 2 sort.Val) (Var 4 sort.List)) ∷ (Data (Var 1 sort.Int) (Var 3 sort.Val) (Var 5 sort.List)) ∷ []) }); post = (record { opened = []; facts = ([]); locals = []; items = ((Data (Var 0 sort.Int) (Var 2 sort.Val) (Var 4 sort.List)) ∷ (Data (Var 1 sort.Int) (Var 3 sort.Val) (Var 5 sort.List)) ∷ []) }) }) ∷ []) }) (record { is_void = true; name = name_f; params = (name_p ∷ []); vars = ((name_s, sort.Int) ∷ (name_t, sort.Int) ∷ (name_v, sort.Val) ∷ (name_w, sort.Val) ∷ (name_k, sort.List) ∷ (name_m, sort.List) ∷ []); pre = (record { opened = []; facts = ((Rel relation.Eq (Var 3 sort.Val) (Var 2 sort.Val)) ∷ []); locals = []; items = ((Data (Var 0 sort.Int) (Var 2 sort.Val) (Var 4 sort.List)) ∷ (Data (Var 1 sort.Int) (Var 3 sort.Val) (Var 5 sort.List)) ∷ []) }); post = (record { opened = []; facts = ([]); locals = []; items = ((Data (Var 0 sort.Int) (Var 2 sort.Val) (Var 4 sort.List)) ∷ (Data (Var 1 sort.Int) (Var 3 sort.Val) (Var 5 sort.List)) ∷ []) }) }) (record { temps = (name_p ∷ []); body = (c.Then (c.Return None) c.End) }) (s.Then 1 (s.Have (IsInt (Named name_v)) ([])) s.NoBlock (s.Then 2 (s.Return ([]) ([]) ([])) s.NoBlock s.End)) ≡ (RefusedAt 1 25 3)
unfolding computing
conditions_625 = refl

conditions_626 : body_verdict (record { predicates = ([]); specs = ((record { is_void = true; name = name_f; params = (name_p ∷ []); vars = ((name_s, sort.Int) ∷ (name_t, sort.Int) ∷ (name_v, sort.Val) ∷ (name_w, sort.Val) ∷ (name_k, sort.List) ∷ (name_m, sort.List) ∷ []); pre = (record { opened = []; facts = ((Rel relation.Eq (Var 3 sort.Val) (Var 2 sort.Val)) ∷ []); locals = []; items = ((Data (Var 0 sort.Int) (Var 2 sort.Val) (Var 4 sort.List)) ∷ (Data (Var 1 sort.Int) (Var 3 sort.Val) (Var 5 sort.List)) ∷ []) }); post = (record { opened = []; facts = ([]); locals = []; items = ((Data (Var 0 sort.Int) (Var 2 sort.Val) (Var 4 sort.List)) ∷ (Data (Var 1 sort.Int) (Var 3 sort.Val) (Var 5 sort.List)) ∷ []) }) }) ∷ []) }) (record { is_void = true; name = name_f; params = (name_p ∷ []); vars = ((name_s, sort.Int) ∷ (name_t, sort.Int) ∷ (name_v, sort.Val) ∷ (name_w, sort.Val) ∷ (name_k, sort.List) ∷ (name_m, sort.List) ∷ []); pre = (record { opened = []; facts = ((Rel relation.Eq (Var 3 sort.Val) (Var 2 sort.Val)) ∷ []); locals = []; items = ((Data (Var 0 sort.Int) (Var 2 sort.Val) (Var 4 sort.List)) ∷ (Data (Var 1 sort.Int) (Var 3 sort.Val) (Var 5 sort.List)) ∷ []) }); post = (record { opened = []; facts = ([]); locals = []; items = ((Data (Var 0 sort.Int) (Var 2 sort.Val) (Var 4 sort.List)) ∷ (Data (Var 1 sort.Int) (Var 3 sort.Val) (Var 5 sort.List)) ∷ []) }) }) (record { temps = (name_p ∷ []); body = (c.Then (c.Return None) c.End) }) (s.Then 1 (s.Have (IsPtr (Named name_v)) ([])) s.NoBlock (s.Then 2 (s.Return ([]) ([]) ([])) s.NoBlock s.End)) ≡ (RefusedAt 1 25 3)
unfolding computing
conditions_626 = refl

conditions_627 : body_verdict (record { predicates = ([]); specs = ((record { is_void = true; name = name_f; params = (name_p ∷ []); vars = ((name_s, sort.Int) ∷ (name_t, sort.Int) ∷ (name_v, sort.Val) ∷ (name_w, sort.Val) ∷ (name_k, sort.List) ∷ (name_m, sort.List) ∷ []); pre = (record { opened = []; facts = ((Rel relation.Eq (Var 3 sort.Val) (Var 2 sort.Val)) ∷ []); locals = []; items = ((Data (Var 0 sort.Int) (Var 2 sort.Val) (Var 4 sort.List)) ∷ (Data (Var 1 sort.Int) (Var 3 sort.Val) (Var 5 sort.List)) ∷ []) }); post = (record { opened = []; facts = ([]); locals = []; items = ((Data (Var 0 sort.Int) (Var 2 sort.Val) (Var 4 sort.List)) ∷ (Data (Var 1 sort.Int) (Var 3 sort.Val) (Var 5 sort.List)) ∷ []) }) }) ∷ []) }) (record { is_void = true; name = name_f; params = (name_p ∷ []); vars = ((name_s, sort.Int) ∷ (name_t, sort.Int) ∷ (name_v, sort.Val) ∷ (name_w, sort.Val) ∷ (name_k, sort.List) ∷ (name_m, sort.List) ∷ []); pre = (record { opened = []; facts = ((Rel relation.Eq (Var 3 sort.Val) (Var 2 sort.Val)) ∷ []); locals = []; items = ((Data (Var 0 sort.Int) (Var 2 sort.Val) (Var 4 sort.List)) ∷ (Data (Var 1 sort.Int) (Var 3 sort.Val) (Var 5 sort.List)) ∷ []) }); post = (record { opened = []; facts = ([]); locals = []; items = ((Data (Var 0 sort.Int) (Var 2 sort.Val) (Var 4 sort.List)) ∷ (Data (Var 1 sort.Int) (Var 3 sort.Val) (Var 5 sort.List)) ∷ []) }) }) (record { temps = (name_p ∷ []); body = (c.Then (c.Return None) c.End) }) (s.Then 1 (s.Have (Rel relation.Eq (Named name_s) (Named name_t)) ([])) s.NoBlock (s.Then 2 (s.Return ([]) ([]) ([])) s.NoBlock s.End)) ≡ (RefusedAt 1 25 3)
unfolding computing
conditions_627 = refl

conditions_628 : body_verdict (record { predicates = ([]); specs = ((record { is_void = true; name = name_f; params = (name_p ∷ []); vars = ((name_s, sort.Int) ∷ (name_t, sort.Int) ∷ (name_v, sort.Val) ∷ (name_w, sort.Val) ∷ (name_k, sort.List) ∷ (name_m, sort.List) ∷ []); pre = (record { opened = []; facts = ((Rel relation.Eq (Var 3 sort.Val) (Var 2 sort.Val)) ∷ []); locals = []; items = ((Data (Var 0 sort.Int) (Var 2 sort.Val) (Var 4 sort.List)) ∷ (Data (Var 1 sort.Int) (Var 3 sort.Val) (Var 5 sort.List)) ∷ []) }); post = (record { opened = []; facts = ([]); locals = []; items = ((Data (Var 0 sort.Int) (Var 2 sort.Val) (Var 4 sort.List)) ∷ (Data (Var 1 sort.Int) (Var 3 sort.Val) (Var 5 sort.List)) ∷ []) }) }) ∷ []) }) (record { is_void = true; name = name_f; params = (name_p ∷ []); vars = ((name_s, sort.Int) ∷ (name_t, sort.Int) ∷ (name_v, sort.Val) ∷ (name_w, sort.Val) ∷ (name_k, sort.List) ∷ (name_m, sort.List) ∷ []); pre = (record { opened = []; facts = ((Rel relation.Eq (Var 3 sort.Val) (Var 2 sort.Val)) ∷ []); locals = []; items = ((Data (Var 0 sort.Int) (Var 2 sort.Val) (Var 4 sort.List)) ∷ (Data (Var 1 sort.Int) (Var 3 sort.Val) (Var 5 sort.List)) ∷ []) }); post = (record { opened = []; facts = ([]); locals = []; items = ((Data (Var 0 sort.Int) (Var 2 sort.Val) (Var 4 sort.List)) ∷ (Data (Var 1 sort.Int) (Var 3 sort.Val) (Var 5 sort.List)) ∷ []) }) }) (record { temps = (name_p ∷ []); body = (c.Then (c.Return None) c.End) }) (s.Then 1 (s.Have (Rel relation.Ne (Named name_s) (Named name_t)) ([])) s.NoBlock (s.Then 2 (s.Return ([]) ([]) ([])) s.NoBlock s.End)) ≡ (RefusedAt 1 25 3)
unfolding computing
conditions_628 = refl

conditions_629 : body_verdict (record { predicates = ([]); specs = ((record { is_void = true; name = name_f; params = (name_p ∷ []); vars = ((name_s, sort.Int) ∷ (name_t, sort.Int) ∷ (name_v, sort.Val) ∷ (name_w, sort.Val) ∷ (name_k, sort.List) ∷ (name_m, sort.List) ∷ []); pre = (record { opened = []; facts = ((Rel relation.Eq (Var 3 sort.Val) (Var 2 sort.Val)) ∷ []); locals = []; items = ((Data (Var 0 sort.Int) (Var 2 sort.Val) (Var 4 sort.List)) ∷ (Data (Var 1 sort.Int) (Var 3 sort.Val) (Var 5 sort.List)) ∷ []) }); post = (record { opened = []; facts = ([]); locals = []; items = ((Data (Var 0 sort.Int) (Var 2 sort.Val) (Var 4 sort.List)) ∷ (Data (Var 1 sort.Int) (Var 3 sort.Val) (Var 5 sort.List)) ∷ []) }) }) ∷ []) }) (record { is_void = true; name = name_f; params = (name_p ∷ []); vars = ((name_s, sort.Int) ∷ (name_t, sort.Int) ∷ (name_v, sort.Val) ∷ (name_w, sort.Val) ∷ (name_k, sort.List) ∷ (name_m, sort.List) ∷ []); pre = (record { opened = []; facts = ((Rel relation.Eq (Var 3 sort.Val) (Var 2 sort.Val)) ∷ []); locals = []; items = ((Data (Var 0 sort.Int) (Var 2 sort.Val) (Var 4 sort.List)) ∷ (Data (Var 1 sort.Int) (Var 3 sort.Val) (Var 5 sort.List)) ∷ []) }); post = (record { opened = []; facts = ([]); locals = []; items = ((Data (Var 0 sort.Int) (Var 2 sort.Val) (Var 4 sort.List)) ∷ (Data (Var 1 sort.Int) (Var 3 sort.Val) (Var 5 sort.List)) ∷ []) }) }) (record { temps = (name_p ∷ []); body = (c.Then (c.Return None) c.End) }) (s.Then 1 (s.Have (Rel relation.Le (Named name_s) (Named name_t)) ([])) s.NoBlock (s.Then 2 (s.Return ([]) ([]) ([])) s.NoBlock s.End)) ≡ (RefusedAt 1 25 3)
unfolding computing
conditions_629 = refl

conditions_630 : body_verdict (record { predicates = ([]); specs = ((record { is_void = true; name = name_f; params = (name_p ∷ []); vars = ((name_s, sort.Int) ∷ (name_t, sort.Int) ∷ (name_v, sort.Val) ∷ (name_w, sort.Val) ∷ (name_k, sort.List) ∷ (name_m, sort.List) ∷ []); pre = (record { opened = []; facts = ((Rel relation.Eq (Var 3 sort.Val) (Var 2 sort.Val)) ∷ []); locals = []; items = ((Data (Var 0 sort.Int) (Var 2 sort.Val) (Var 4 sort.List)) ∷ (Data (Var 1 sort.Int) (Var 3 sort.Val) (Var 5 sort.List)) ∷ []) }); post = (record { opened = []; facts = ([]); locals = []; items = ((Data (Var 0 sort.Int) (Var 2 sort.Val) (Var 4 sort.List)) ∷ (Data (Var 1 sort.Int) (Var 3 sort.Val) (Var 5 sort.List)) ∷ []) }) }) ∷ []) }) (record { is_void = true; name = name_f; params = (name_p ∷ []); vars = ((name_s, sort.Int) ∷ (name_t, sort.Int) ∷ (name_v, sort.Val) ∷ (name_w, sort.Val) ∷ (name_k, sort.List) ∷ (name_m, sort.List) ∷ []); pre = (record { opened = []; facts = ((Rel relation.Eq (Var 3 sort.Val) (Var 2 sort.Val)) ∷ []); locals = []; items = ((Data (Var 0 sort.Int) (Var 2 sort.Val) (Var 4 sort.List)) ∷ (Data (Var 1 sort.Int) (Var 3 sort.Val) (Var 5 sort.List)) ∷ []) }); post = (record { opened = []; facts = ([]); locals = []; items = ((Data (Var 0 sort.Int) (Var 2 sort.Val) (Var 4 sort.List)) ∷ (Data (Var 1 sort.Int) (Var 3 sort.Val) (Var 5 sort.List)) ∷ []) }) }) (record { temps = (name_p ∷ []); body = (c.Then (c.Return None) c.End) }) (s.Then 1 (s.Have (Rel relation.Lt (Named name_s) (Named name_t)) ([])) s.NoBlock (s.Then 2 (s.Return ([]) ([]) ([])) s.NoBlock s.End)) ≡ (RefusedAt 1 25 3)
unfolding computing
conditions_630 = refl

conditions_631 : body_verdict (record { predicates = ([]); specs = ((record { is_void = true; name = name_f; params = (name_p ∷ []); vars = ((name_s, sort.Int) ∷ (name_t, sort.Int) ∷ (name_v, sort.Val) ∷ (name_w, sort.Val) ∷ (name_k, sort.List) ∷ (name_m, sort.List) ∷ []); pre = (record { opened = []; facts = ((Rel relation.Eq (Var 3 sort.Val) (Var 2 sort.Val)) ∷ []); locals = []; items = ((Data (Var 0 sort.Int) (Var 2 sort.Val) (Var 4 sort.List)) ∷ (Data (Var 1 sort.Int) (Var 3 sort.Val) (Var 5 sort.List)) ∷ []) }); post = (record { opened = []; facts = ([]); locals = []; items = ((Data (Var 0 sort.Int) (Var 2 sort.Val) (Var 4 sort.List)) ∷ (Data (Var 1 sort.Int) (Var 3 sort.Val) (Var 5 sort.List)) ∷ []) }) }) ∷ []) }) (record { is_void = true; name = name_f; params = (name_p ∷ []); vars = ((name_s, sort.Int) ∷ (name_t, sort.Int) ∷ (name_v, sort.Val) ∷ (name_w, sort.Val) ∷ (name_k, sort.List) ∷ (name_m, sort.List) ∷ []); pre = (record { opened = []; facts = ((Rel relation.Eq (Var 3 sort.Val) (Var 2 sort.Val)) ∷ []); locals = []; items = ((Data (Var 0 sort.Int) (Var 2 sort.Val) (Var 4 sort.List)) ∷ (Data (Var 1 sort.Int) (Var 3 sort.Val) (Var 5 sort.List)) ∷ []) }); post = (record { opened = []; facts = ([]); locals = []; items = ((Data (Var 0 sort.Int) (Var 2 sort.Val) (Var 4 sort.List)) ∷ (Data (Var 1 sort.Int) (Var 3 sort.Val) (Var 5 sort.List)) ∷ []) }) }) (record { temps = (name_p ∷ []); body = (c.Then (c.Return None) c.End) }) (s.Then 1 (s.Have (Rel relation.Eq (Named name_v) (Named name_w)) ([])) s.NoBlock (s.Then 2 (s.Return ([]) ([]) ([])) s.NoBlock s.End)) ≡ Accepted
unfolding computing
conditions_631 = refl

conditions_632 : body_verdict (record { predicates = ([]); specs = ((record { is_void = true; name = name_f; params = (name_p ∷ []); vars = ((name_s, sort.Int) ∷ (name_t, sort.Int) ∷ (name_v, sort.Val) ∷ (name_w, sort.Val) ∷ (name_k, sort.List) ∷ (name_m, sort.List) ∷ []); pre = (record { opened = []; facts = ((Rel relation.Eq (Var 3 sort.Val) (Var 2 sort.Val)) ∷ []); locals = []; items = ((Data (Var 0 sort.Int) (Var 2 sort.Val) (Var 4 sort.List)) ∷ (Data (Var 1 sort.Int) (Var 3 sort.Val) (Var 5 sort.List)) ∷ []) }); post = (record { opened = []; facts = ([]); locals = []; items = ((Data (Var 0 sort.Int) (Var 2 sort.Val) (Var 4 sort.List)) ∷ (Data (Var 1 sort.Int) (Var 3 sort.Val) (Var 5 sort.List)) ∷ []) }) }) ∷ []) }) (record { is_void = true; name = name_f; params = (name_p ∷ []); vars = ((name_s, sort.Int) ∷ (name_t, sort.Int) ∷ (name_v, sort.Val) ∷ (name_w, sort.Val) ∷ (name_k, sort.List) ∷ (name_m, sort.List) ∷ []); pre = (record { opened = []; facts = ((Rel relation.Eq (Var 3 sort.Val) (Var 2 sort.Val)) ∷ []); locals = []; items = ((Data (Var 0 sort.Int) (Var 2 sort.Val) (Var 4 sort.List)) ∷ (Data (Var 1 sort.Int) (Var 3 sort.Val) (Var 5 sort.List)) ∷ []) }); post = (record { opened = []; facts = ([]); locals = []; items = ((Data (Var 0 sort.Int) (Var 2 sort.Val) (Var 4 sort.List)) ∷ (Data (Var 1 sort.Int) (Var 3 sort.Val) (Var 5 sort.List)) ∷ []) }) }) (record { temps = (name_p ∷ []); body = (c.Then (c.Return None) c.End) }) (s.Then 1 (s.Have (Rel relation.Ne (Named name_v) (Named name_w)) ([])) s.NoBlock (s.Then 2 (s.Return ([]) ([]) ([])) s.NoBlock s.End)) ≡ (RefusedAt 1 25 3)
unfolding computing
conditions_632 = refl

conditions_633 : body_verdict (record { predicates = ([]); specs = ((record { is_void = true; name = name_f; params = (name_p ∷ []); vars = ((name_s, sort.Int) ∷ (name_t, sort.Int) ∷ (name_v, sort.Val) ∷ (name_w, sort.Val) ∷ (name_k, sort.List) ∷ (name_m, sort.List) ∷ []); pre = (record { opened = []; facts = ((Rel relation.Ne (Var 2 sort.Val) (Var 3 sort.Val)) ∷ []); locals = []; items = ((Data (Var 0 sort.Int) (Var 2 sort.Val) (Var 4 sort.List)) ∷ (Data (Var 1 sort.Int) (Var 3 sort.Val) (Var 5 sort.List)) ∷ []) }); post = (record { opened = []; facts = ([]); locals = []; items = ((Data (Var 0 sort.Int) (Var 2 sort.Val) (Var 4 sort.List)) ∷ (Data (Var 1 sort.Int) (Var 3 sort.Val) (Var 5 sort.List)) ∷ []) }) }) ∷ []) }) (record { is_void = true; name = name_f; params = (name_p ∷ []); vars = ((name_s, sort.Int) ∷ (name_t, sort.Int) ∷ (name_v, sort.Val) ∷ (name_w, sort.Val) ∷ (name_k, sort.List) ∷ (name_m, sort.List) ∷ []); pre = (record { opened = []; facts = ((Rel relation.Ne (Var 2 sort.Val) (Var 3 sort.Val)) ∷ []); locals = []; items = ((Data (Var 0 sort.Int) (Var 2 sort.Val) (Var 4 sort.List)) ∷ (Data (Var 1 sort.Int) (Var 3 sort.Val) (Var 5 sort.List)) ∷ []) }); post = (record { opened = []; facts = ([]); locals = []; items = ((Data (Var 0 sort.Int) (Var 2 sort.Val) (Var 4 sort.List)) ∷ (Data (Var 1 sort.Int) (Var 3 sort.Val) (Var 5 sort.List)) ∷ []) }) }) (record { temps = (name_p ∷ []); body = (c.Then (c.Return None) c.End) }) (s.Then 1 (s.Have (Each (Named name_k) (Named name_s) (Named name_t)) ([])) s.NoBlock (s.Then 2 (s.Return ([]) ([]) ([])) s.NoBlock s.End)) ≡ (RefusedAt 1 25 3)
unfolding computing
conditions_633 = refl

conditions_634 : body_verdict (record { predicates = ([]); specs = ((record { is_void = true; name = name_f; params = (name_p ∷ []); vars = ((name_s, sort.Int) ∷ (name_t, sort.Int) ∷ (name_v, sort.Val) ∷ (name_w, sort.Val) ∷ (name_k, sort.List) ∷ (name_m, sort.List) ∷ []); pre = (record { opened = []; facts = ((Rel relation.Ne (Var 2 sort.Val) (Var 3 sort.Val)) ∷ []); locals = []; items = ((Data (Var 0 sort.Int) (Var 2 sort.Val) (Var 4 sort.List)) ∷ (Data (Var 1 sort.Int) (Var 3 sort.Val) (Var 5 sort.List)) ∷ []) }); post = (record { opened = []; facts = ([]); locals = []; items = ((Data (Var 0 sort.Int) (Var 2 sort.Val) (Var 4 sort.List)) ∷ (Data (Var 1 sort.Int) (Var 3 sort.Val) (Var 5 sort.List)) ∷ []) }) }) ∷ []) }) (record { is_void = true; name = name_f; params = (name_p ∷ []); vars = ((name_s, sort.Int) ∷ (name_t, sort.Int) ∷ (name_v, sort.Val) ∷ (name_w, sort.Val) ∷ (name_k, sort.List) ∷ (name_m, sort.List) ∷ []); pre = (record { opened = []; facts = ((Rel relation.Ne (Var 2 sort.Val) (Var 3 sort.Val)) ∷ []); locals = []; items = ((Data (Var 0 sort.Int) (Var 2 sort.Val) (Var 4 sort.List)) ∷ (Data (Var 1 sort.Int) (Var 3 sort.Val) (Var 5 sort.List)) ∷ []) }); post = (record { opened = []; facts = ([]); locals = []; items = ((Data (Var 0 sort.Int) (Var 2 sort.Val) (Var 4 sort.List)) ∷ (Data (Var 1 sort.Int) (Var 3 sort.Val) (Var 5 sort.List)) ∷ []) }) }) (record { temps = (name_p ∷ []); body = (c.Then (c.Return None) c.End) }) (s.Then 1 (s.Have (IsInt (Named name_v)) ([])) s.NoBlock (s.Then 2 (s.Return ([]) ([]) ([])) s.NoBlock s.End)) ≡ (RefusedAt 1 25 3)
unfolding computing
conditions_634 = refl

conditions_635 : body_verdict (record { predicates = ([]); specs = ((record { is_void = true; name = name_f; params = (name_p ∷ []); vars = ((name_s, sort.Int) ∷ (name_t, sort.Int) ∷ (name_v, sort.Val) ∷ (name_w, sort.Val) ∷ (name_k, sort.List) ∷ (name_m, sort.List) ∷ []); pre = (record { opened = []; facts = ((Rel relation.Ne (Var 2 sort.Val) (Var 3 sort.Val)) ∷ []); locals = []; items = ((Data (Var 0 sort.Int) (Var 2 sort.Val) (Var 4 sort.List)) ∷ (Data (Var 1 sort.Int) (Var 3 sort.Val) (Var 5 sort.List)) ∷ []) }); post = (record { opened = []; facts = ([]); locals = []; items = ((Data (Var 0 sort.Int) (Var 2 sort.Val) (Var 4 sort.List)) ∷ (Data (Var 1 sort.Int) (Var 3 sort.Val) (Var 5 sort.List)) ∷ []) }) }) ∷ []) }) (record { is_void = true; name = name_f; params = (name_p ∷ []); vars = ((name_s, sort.Int) ∷ (name_t, sort.Int) ∷ (name_v, sort.Val) ∷ (name_w, sort.Val) ∷ (name_k, sort.List) ∷ (name_m, sort.List) ∷ []); pre = (record { opened = []; facts = ((Rel relation.Ne (Var 2 sort.Val) (Var 3 sort.Val)) ∷ []); locals = []; items = ((Data (Var 0 sort.Int) (Var 2 sort.Val) (Var 4 sort.List)) ∷ (Data (Var 1 sort.Int) (Var 3 sort.Val) (Var 5 sort.List)) ∷ []) }); post = (record { opened = []; facts = ([]); locals = []; items = ((Data (Var 0 sort.Int) (Var 2 sort.Val) (Var 4 sort.List)) ∷ (Data (Var 1 sort.Int) (Var 3 sort.Val) (Var 5 sort.List)) ∷ []) }) }) (record { temps = (name_p ∷ []); body = (c.Then (c.Return None) c.End) }) (s.Then 1 (s.Have (IsPtr (Named name_v)) ([])) s.NoBlock (s.Then 2 (s.Return ([]) ([]) ([])) s.NoBlock s.End)) ≡ (RefusedAt 1 25 3)
unfolding computing
conditions_635 = refl

conditions_636 : body_verdict (record { predicates = ([]); specs = ((record { is_void = true; name = name_f; params = (name_p ∷ []); vars = ((name_s, sort.Int) ∷ (name_t, sort.Int) ∷ (name_v, sort.Val) ∷ (name_w, sort.Val) ∷ (name_k, sort.List) ∷ (name_m, sort.List) ∷ []); pre = (record { opened = []; facts = ((Rel relation.Ne (Var 2 sort.Val) (Var 3 sort.Val)) ∷ []); locals = []; items = ((Data (Var 0 sort.Int) (Var 2 sort.Val) (Var 4 sort.List)) ∷ (Data (Var 1 sort.Int) (Var 3 sort.Val) (Var 5 sort.List)) ∷ []) }); post = (record { opened = []; facts = ([]); locals = []; items = ((Data (Var 0 sort.Int) (Var 2 sort.Val) (Var 4 sort.List)) ∷ (Data (Var 1 sort.Int) (Var 3 sort.Val) (Var 5 sort.List)) ∷ []) }) }) ∷ []) }) (record { is_void = true; name = name_f; params = (name_p ∷ []); vars = ((name_s, sort.Int) ∷ (name_t, sort.Int) ∷ (name_v, sort.Val) ∷ (name_w, sort.Val) ∷ (name_k, sort.List) ∷ (name_m, sort.List) ∷ []); pre = (record { opened = []; facts = ((Rel relation.Ne (Var 2 sort.Val) (Var 3 sort.Val)) ∷ []); locals = []; items = ((Data (Var 0 sort.Int) (Var 2 sort.Val) (Var 4 sort.List)) ∷ (Data (Var 1 sort.Int) (Var 3 sort.Val) (Var 5 sort.List)) ∷ []) }); post = (record { opened = []; facts = ([]); locals = []; items = ((Data (Var 0 sort.Int) (Var 2 sort.Val) (Var 4 sort.List)) ∷ (Data (Var 1 sort.Int) (Var 3 sort.Val) (Var 5 sort.List)) ∷ []) }) }) (record { temps = (name_p ∷ []); body = (c.Then (c.Return None) c.End) }) (s.Then 1 (s.Have (Rel relation.Eq (Named name_s) (Named name_t)) ([])) s.NoBlock (s.Then 2 (s.Return ([]) ([]) ([])) s.NoBlock s.End)) ≡ (RefusedAt 1 25 3)
unfolding computing
conditions_636 = refl

conditions_637 : body_verdict (record { predicates = ([]); specs = ((record { is_void = true; name = name_f; params = (name_p ∷ []); vars = ((name_s, sort.Int) ∷ (name_t, sort.Int) ∷ (name_v, sort.Val) ∷ (name_w, sort.Val) ∷ (name_k, sort.List) ∷ (name_m, sort.List) ∷ []); pre = (record { opened = []; facts = ((Rel relation.Ne (Var 2 sort.Val) (Var 3 sort.Val)) ∷ []); locals = []; items = ((Data (Var 0 sort.Int) (Var 2 sort.Val) (Var 4 sort.List)) ∷ (Data (Var 1 sort.Int) (Var 3 sort.Val) (Var 5 sort.List)) ∷ []) }); post = (record { opened = []; facts = ([]); locals = []; items = ((Data (Var 0 sort.Int) (Var 2 sort.Val) (Var 4 sort.List)) ∷ (Data (Var 1 sort.Int) (Var 3 sort.Val) (Var 5 sort.List)) ∷ []) }) }) ∷ []) }) (record { is_void = true; name = name_f; params = (name_p ∷ []); vars = ((name_s, sort.Int) ∷ (name_t, sort.Int) ∷ (name_v, sort.Val) ∷ (name_w, sort.Val) ∷ (name_k, sort.List) ∷ (name_m, sort.List) ∷ []); pre = (record { opened = []; facts = ((Rel relation.Ne (Var 2 sort.Val) (Var 3 sort.Val)) ∷ []); locals = []; items = ((Data (Var 0 sort.Int) (Var 2 sort.Val) (Var 4 sort.List)) ∷ (Data (Var 1 sort.Int) (Var 3 sort.Val) (Var 5 sort.List)) ∷ []) }); post = (record { opened = []; facts = ([]); locals = []; items = ((Data (Var 0 sort.Int) (Var 2 sort.Val) (Var 4 sort.List)) ∷ (Data (Var 1 sort.Int) (Var 3 sort.Val) (Var 5 sort.List)) ∷ []) }) }) (record { temps = (name_p ∷ []); body = (c.Then (c.Return None) c.End) }) (s.Then 1 (s.Have (Rel relation.Ne (Named name_s) (Named name_t)) ([])) s.NoBlock (s.Then 2 (s.Return ([]) ([]) ([])) s.NoBlock s.End)) ≡ (RefusedAt 1 25 3)
unfolding computing
conditions_637 = refl

conditions_638 : body_verdict (record { predicates = ([]); specs = ((record { is_void = true; name = name_f; params = (name_p ∷ []); vars = ((name_s, sort.Int) ∷ (name_t, sort.Int) ∷ (name_v, sort.Val) ∷ (name_w, sort.Val) ∷ (name_k, sort.List) ∷ (name_m, sort.List) ∷ []); pre = (record { opened = []; facts = ((Rel relation.Ne (Var 2 sort.Val) (Var 3 sort.Val)) ∷ []); locals = []; items = ((Data (Var 0 sort.Int) (Var 2 sort.Val) (Var 4 sort.List)) ∷ (Data (Var 1 sort.Int) (Var 3 sort.Val) (Var 5 sort.List)) ∷ []) }); post = (record { opened = []; facts = ([]); locals = []; items = ((Data (Var 0 sort.Int) (Var 2 sort.Val) (Var 4 sort.List)) ∷ (Data (Var 1 sort.Int) (Var 3 sort.Val) (Var 5 sort.List)) ∷ []) }) }) ∷ []) }) (record { is_void = true; name = name_f; params = (name_p ∷ []); vars = ((name_s, sort.Int) ∷ (name_t, sort.Int) ∷ (name_v, sort.Val) ∷ (name_w, sort.Val) ∷ (name_k, sort.List) ∷ (name_m, sort.List) ∷ []); pre = (record { opened = []; facts = ((Rel relation.Ne (Var 2 sort.Val) (Var 3 sort.Val)) ∷ []); locals = []; items = ((Data (Var 0 sort.Int) (Var 2 sort.Val) (Var 4 sort.List)) ∷ (Data (Var 1 sort.Int) (Var 3 sort.Val) (Var 5 sort.List)) ∷ []) }); post = (record { opened = []; facts = ([]); locals = []; items = ((Data (Var 0 sort.Int) (Var 2 sort.Val) (Var 4 sort.List)) ∷ (Data (Var 1 sort.Int) (Var 3 sort.Val) (Var 5 sort.List)) ∷ []) }) }) (record { temps = (name_p ∷ []); body = (c.Then (c.Return None) c.End) }) (s.Then 1 (s.Have (Rel relation.Le (Named name_s) (Named name_t)) ([])) s.NoBlock (s.Then 2 (s.Return ([]) ([]) ([])) s.NoBlock s.End)) ≡ (RefusedAt 1 25 3)
unfolding computing
conditions_638 = refl

conditions_639 : body_verdict (record { predicates = ([]); specs = ((record { is_void = true; name = name_f; params = (name_p ∷ []); vars = ((name_s, sort.Int) ∷ (name_t, sort.Int) ∷ (name_v, sort.Val) ∷ (name_w, sort.Val) ∷ (name_k, sort.List) ∷ (name_m, sort.List) ∷ []); pre = (record { opened = []; facts = ((Rel relation.Ne (Var 2 sort.Val) (Var 3 sort.Val)) ∷ []); locals = []; items = ((Data (Var 0 sort.Int) (Var 2 sort.Val) (Var 4 sort.List)) ∷ (Data (Var 1 sort.Int) (Var 3 sort.Val) (Var 5 sort.List)) ∷ []) }); post = (record { opened = []; facts = ([]); locals = []; items = ((Data (Var 0 sort.Int) (Var 2 sort.Val) (Var 4 sort.List)) ∷ (Data (Var 1 sort.Int) (Var 3 sort.Val) (Var 5 sort.List)) ∷ []) }) }) ∷ []) }) (record { is_void = true; name = name_f; params = (name_p ∷ []); vars = ((name_s, sort.Int) ∷ (name_t, sort.Int) ∷ (name_v, sort.Val) ∷ (name_w, sort.Val) ∷ (name_k, sort.List) ∷ (name_m, sort.List) ∷ []); pre = (record { opened = []; facts = ((Rel relation.Ne (Var 2 sort.Val) (Var 3 sort.Val)) ∷ []); locals = []; items = ((Data (Var 0 sort.Int) (Var 2 sort.Val) (Var 4 sort.List)) ∷ (Data (Var 1 sort.Int) (Var 3 sort.Val) (Var 5 sort.List)) ∷ []) }); post = (record { opened = []; facts = ([]); locals = []; items = ((Data (Var 0 sort.Int) (Var 2 sort.Val) (Var 4 sort.List)) ∷ (Data (Var 1 sort.Int) (Var 3 sort.Val) (Var 5 sort.List)) ∷ []) }) }) (record { temps = (name_p ∷ []); body = (c.Then (c.Return None) c.End) }) (s.Then 1 (s.Have (Rel relation.Lt (Named name_s) (Named name_t)) ([])) s.NoBlock (s.Then 2 (s.Return ([]) ([]) ([])) s.NoBlock s.End)) ≡ (RefusedAt 1 25 3)
unfolding computing
conditions_639 = refl

conditions_640 : body_verdict (record { predicates = ([]); specs = ((record { is_void = true; name = name_f; params = (name_p ∷ []); vars = ((name_s, sort.Int) ∷ (name_t, sort.Int) ∷ (name_v, sort.Val) ∷ (name_w, sort.Val) ∷ (name_k, sort.List) ∷ (name_m, sort.List) ∷ []); pre = (record { opened = []; facts = ((Rel relation.Ne (Var 2 sort.Val) (Var 3 sort.Val)) ∷ []); locals = []; items = ((Data (Var 0 sort.Int) (Var 2 sort.Val) (Var 4 sort.List)) ∷ (Data (Var 1 sort.Int) (Var 3 sort.Val) (Var 5 sort.List)) ∷ []) }); post = (record { opened = []; facts = ([]); locals = []; items = ((Data (Var 0 sort.Int) (Var 2 sort.Val) (Var 4 sort.List)) ∷ (Data (Var 1 sort.Int) (Var 3 sort.Val) (Var 5 sort.List)) ∷ []) }) }) ∷ []) }) (record { is_void = true; name = name_f; params = (name_p ∷ []); vars = ((name_s, sort.Int) ∷ (name_t, sort.Int) ∷ (name_v, sort.Val) ∷ (name_w, sort.Val) ∷ (name_k, sort.List) ∷ (name_m, sort.List) ∷ []); pre = (record { opened = []; facts = ((Rel relation.Ne (Var 2 sort.Val) (Var 3 sort.Val)) ∷ []); locals = []; items = ((Data (Var 0 sort.Int) (Var 2 sort.Val) (Var 4 sort.List)) ∷ (Data (Var 1 sort.Int) (Var 3 sort.Val) (Var 5 sort.List)) ∷ []) }); post = (record { opened = []; facts = ([]); locals = []; items = ((Data (Var 0 sort.Int) (Var 2 sort.Val) (Var 4 sort.List)) ∷ (Data (Var 1 sort.Int) (Var 3 sort.Val) (Var 5 sort.List)) ∷ []) }) }) (record { temps = (name_p ∷ []); body = (c.Then (c.Return None) c.End) }) (s.Then 1 (s.Have (Rel relation.Eq (Named name_v) (Named name_w)) ([])) s.NoBlock (s.Then 2 (s.Return ([]) ([]) ([])) s.NoBlock s.End)) ≡ (RefusedAt 1 25 3)
unfolding computing
conditions_640 = refl

conditions_641 : body_verdict (record { predicates = ([]); specs = ((record { is_void = true; name = name_f; params = (name_p ∷ []); vars = ((name_s, sort.Int) ∷ (name_t, sort.Int) ∷ (name_v, sort.Val) ∷ (name_w, sort.Val) ∷ (name_k, sort.List) ∷ (name_m, sort.List) ∷ []); pre = (record { opened = []; facts = ((Rel relation.Ne (Var 2 sort.Val) (Var 3 sort.Val)) ∷ []); locals = []; items = ((Data (Var 0 sort.Int) (Var 2 sort.Val) (Var 4 sort.List)) ∷ (Data (Var 1 sort.Int) (Var 3 sort.Val) (Var 5 sort.List)) ∷ []) }); post = (record { opened = []; facts = ([]); locals = []; items = ((Data (Var 0 sort.Int) (Var 2 sort.Val) (Var 4 sort.List)) ∷ (Data (Var 1 sort.Int) (Var 3 sort.Val) (Var 5 sort.List)) ∷ []) }) }) ∷ []) }) (record { is_void = true; name = name_f; params = (name_p ∷ []); vars = ((name_s, sort.Int) ∷ (name_t, sort.Int) ∷ (name_v, sort.Val) ∷ (name_w, sort.Val) ∷ (name_k, sort.List) ∷ (name_m, sort.List) ∷ []); pre = (record { opened = []; facts = ((Rel relation.Ne (Var 2 sort.Val) (Var 3 sort.Val)) ∷ []); locals = []; items = ((Data (Var 0 sort.Int) (Var 2 sort.Val) (Var 4 sort.List)) ∷ (Data (Var 1 sort.Int) (Var 3 sort.Val) (Var 5 sort.List)) ∷ []) }); post = (record { opened = []; facts = ([]); locals = []; items = ((Data (Var 0 sort.Int) (Var 2 sort.Val) (Var 4 sort.List)) ∷ (Data (Var 1 sort.Int) (Var 3 sort.Val) (Var 5 sort.List)) ∷ []) }) }) (record { temps = (name_p ∷ []); body = (c.Then (c.Return None) c.End) }) (s.Then 1 (s.Have (Rel relation.Ne (Named name_v) (Named name_w)) ([])) s.NoBlock (s.Then 2 (s.Return ([]) ([]) ([])) s.NoBlock s.End)) ≡ Accepted
unfolding computing
conditions_641 = refl

conditions_642 : body_verdict (record { predicates = ([]); specs = ((record { is_void = true; name = name_f; params = (name_p ∷ []); vars = ((name_s, sort.Int) ∷ (name_t, sort.Int) ∷ (name_v, sort.Val) ∷ (name_w, sort.Val) ∷ (name_k, sort.List) ∷ (name_m, sort.List) ∷ []); pre = (record { opened = []; facts = ((Rel relation.Ne (Var 3 sort.Val) (Var 2 sort.Val)) ∷ []); locals = []; items = ((Data (Var 0 sort.Int) (Var 2 sort.Val) (Var 4 sort.List)) ∷ (Data (Var 1 sort.Int) (Var 3 sort.Val) (Var 5 sort.List)) ∷ []) }); post = (record { opened = []; facts = ([]); locals = []; items = ((Data (Var 0 sort.Int) (Var 2 sort.Val) (Var 4 sort.List)) ∷ (Data (Var 1 sort.Int) (Var 3 sort.Val) (Var 5 sort.List)) ∷ []) }) }) ∷ []) }) (record { is_void = true; name = name_f; params = (name_p ∷ []); vars = ((name_s, sort.Int) ∷ (name_t, sort.Int) ∷ (name_v, sort.Val) ∷ (name_w, sort.Val) ∷ (name_k, sort.List) ∷ (name_m, sort.List) ∷ []); pre = (record { opened = []; facts = ((Rel relation.Ne (Var 3 sort.Val) (Var 2 sort.Val)) ∷ []); locals = []; items = ((Data (Var 0 sort.Int) (Var 2 sort.Val) (Var 4 sort.List)) ∷ (Data (Var 1 sort.Int) (Var 3 sort.Val) (Var 5 sort.List)) ∷ []) }); post = (record { opened = []; facts = ([]); locals = []; items = ((Data (Var 0 sort.Int) (Var 2 sort.Val) (Var 4 sort.List)) ∷ (Data (Var 1 sort.Int) (Var 3 sort.Val) (Var 5 sort.List)) ∷ []) }) }) (record { temps = (name_p ∷ []); body = (c.Then (c.Return None) c.End) }) (s.Then 1 (s.Have (Each (Named name_k) (Named name_s) (Named name_t)) ([])) s.NoBlock (s.Then 2 (s.Return ([]) ([]) ([])) s.NoBlock s.End)) ≡ (RefusedAt 1 25 3)
unfolding computing
conditions_642 = refl

conditions_643 : body_verdict (record { predicates = ([]); specs = ((record { is_void = true; name = name_f; params = (name_p ∷ []); vars = ((name_s, sort.Int) ∷ (name_t, sort.Int) ∷ (name_v, sort.Val) ∷ (name_w, sort.Val) ∷ (name_k, sort.List) ∷ (name_m, sort.List) ∷ []); pre = (record { opened = []; facts = ((Rel relation.Ne (Var 3 sort.Val) (Var 2 sort.Val)) ∷ []); locals = []; items = ((Data (Var 0 sort.Int) (Var 2 sort.Val) (Var 4 sort.List)) ∷ (Data (Var 1 sort.Int) (Var 3 sort.Val) (Var 5 sort.List)) ∷ []) }); post = (record { opened = []; facts = ([]); locals = []; items = ((Data (Var 0 sort.Int) (Var 2 sort.Val) (Var 4 sort.List)) ∷ (Data (Var 1 sort.Int) (Var 3 sort.Val) (Var 5 sort.List)) ∷ []) }) }) ∷ []) }) (record { is_void = true; name = name_f; params = (name_p ∷ []); vars = ((name_s, sort.Int) ∷ (name_t, sort.Int) ∷ (name_v, sort.Val) ∷ (name_w, sort.Val) ∷ (name_k, sort.List) ∷ (name_m, sort.List) ∷ []); pre = (record { opened = []; facts = ((Rel relation.Ne (Var 3 sort.Val) (Var 2 sort.Val)) ∷ []); locals = []; items = ((Data (Var 0 sort.Int) (Var 2 sort.Val) (Var 4 sort.List)) ∷ (Data (Var 1 sort.Int) (Var 3 sort.Val) (Var 5 sort.List)) ∷ []) }); post = (record { opened = []; facts = ([]); locals = []; items = ((Data (Var 0 sort.Int) (Var 2 sort.Val) (Var 4 sort.List)) ∷ (Data (Var 1 sort.Int) (Var 3 sort.Val) (Var 5 sort.List)) ∷ []) }) }) (record { temps = (name_p ∷ []); body = (c.Then (c.Return None) c.End) }) (s.Then 1 (s.Have (IsInt (Named name_v)) ([])) s.NoBlock (s.Then 2 (s.Return ([]) ([]) ([])) s.NoBlock s.End)) ≡ (RefusedAt 1 25 3)
unfolding computing
conditions_643 = refl

conditions_644 : body_verdict (record { predicates = ([]); specs = ((record { is_void = true; name = name_f; params = (name_p ∷ []); vars = ((name_s, sort.Int) ∷ (name_t, sort.Int) ∷ (name_v, sort.Val) ∷ (name_w, sort.Val) ∷ (name_k, sort.List) ∷ (name_m, sort.List) ∷ []); pre = (record { opened = []; facts = ((Rel relation.Ne (Var 3 sort.Val) (Var 2 sort.Val)) ∷ []); locals = []; items = ((Data (Var 0 sort.Int) (Var 2 sort.Val) (Var 4 sort.List)) ∷ (Data (Var 1 sort.Int) (Var 3 sort.Val) (Var 5 sort.List)) ∷ []) }); post = (record { opened = []; facts = ([]); locals = []; items = ((Data (Var 0 sort.Int) (Var 2 sort.Val) (Var 4 sort.List)) ∷ (Data (Var 1 sort.Int) (Var 3 sort.Val) (Var 5 sort.List)) ∷ []) }) }) ∷ []) }) (record { is_void = true; name = name_f; params = (name_p ∷ []); vars = ((name_s, sort.Int) ∷ (name_t, sort.Int) ∷ (name_v, sort.Val) ∷ (name_w, sort.Val) ∷ (name_k, sort.List) ∷ (name_m, sort.List) ∷ []); pre = (record { opened = []; facts = ((Rel relation.Ne (Var 3 sort.Val) (Var 2 sort.Val)) ∷ []); locals = []; items = ((Data (Var 0 sort.Int) (Var 2 sort.Val) (Var 4 sort.List)) ∷ (Data (Var 1 sort.Int) (Var 3 sort.Val) (Var 5 sort.List)) ∷ []) }); post = (record { opened = []; facts = ([]); locals = []; items = ((Data (Var 0 sort.Int) (Var 2 sort.Val) (Var 4 sort.List)) ∷ (Data (Var 1 sort.Int) (Var 3 sort.Val) (Var 5 sort.List)) ∷ []) }) }) (record { temps = (name_p ∷ []); body = (c.Then (c.Return None) c.End) }) (s.Then 1 (s.Have (IsPtr (Named name_v)) ([])) s.NoBlock (s.Then 2 (s.Return ([]) ([]) ([])) s.NoBlock s.End)) ≡ (RefusedAt 1 25 3)
unfolding computing
conditions_644 = refl

conditions_645 : body_verdict (record { predicates = ([]); specs = ((record { is_void = true; name = name_f; params = (name_p ∷ []); vars = ((name_s, sort.Int) ∷ (name_t, sort.Int) ∷ (name_v, sort.Val) ∷ (name_w, sort.Val) ∷ (name_k, sort.List) ∷ (name_m, sort.List) ∷ []); pre = (record { opened = []; facts = ((Rel relation.Ne (Var 3 sort.Val) (Var 2 sort.Val)) ∷ []); locals = []; items = ((Data (Var 0 sort.Int) (Var 2 sort.Val) (Var 4 sort.List)) ∷ (Data (Var 1 sort.Int) (Var 3 sort.Val) (Var 5 sort.List)) ∷ []) }); post = (record { opened = []; facts = ([]); locals = []; items = ((Data (Var 0 sort.Int) (Var 2 sort.Val) (Var 4 sort.List)) ∷ (Data (Var 1 sort.Int) (Var 3 sort.Val) (Var 5 sort.List)) ∷ []) }) }) ∷ []) }) (record { is_void = true; name = name_f; params = (name_p ∷ []); vars = ((name_s, sort.Int) ∷ (name_t, sort.Int) ∷ (name_v, sort.Val) ∷ (name_w, sort.Val) ∷ (name_k, sort.List) ∷ (name_m, sort.List) ∷ []); pre = (record { opened = []; facts = ((Rel relation.Ne (Var 3 sort.Val) (Var 2 sort.Val)) ∷ []); locals = []; items = ((Data (Var 0 sort.Int) (Var 2 sort.Val) (Var 4 sort.List)) ∷ (Data (Var 1 sort.Int) (Var 3 sort.Val) (Var 5 sort.List)) ∷ []) }); post = (record { opened = []; facts = ([]); locals = []; items = ((Data (Var 0 sort.Int) (Var 2 sort.Val) (Var 4 sort.List)) ∷ (Data (Var 1 sort.Int) (Var 3 sort.Val) (Var 5 sort.List)) ∷ []) }) }) (record { temps = (name_p ∷ []); body = (c.Then (c.Return None) c.End) }) (s.Then 1 (s.Have (Rel relation.Eq (Named name_s) (Named name_t)) ([])) s.NoBlock (s.Then 2 (s.Return ([]) ([]) ([])) s.NoBlock s.End)) ≡ (RefusedAt 1 25 3)
unfolding computing
conditions_645 = refl

conditions_646 : body_verdict (record { predicates = ([]); specs = ((record { is_void = true; name = name_f; params = (name_p ∷ []); vars = ((name_s, sort.Int) ∷ (name_t, sort.Int) ∷ (name_v, sort.Val) ∷ (name_w, sort.Val) ∷ (name_k, sort.List) ∷ (name_m, sort.List) ∷ []); pre = (record { opened = []; facts = ((Rel relation.Ne (Var 3 sort.Val) (Var 2 sort.Val)) ∷ []); locals = []; items = ((Data (Var 0 sort.Int) (Var 2 sort.Val) (Var 4 sort.List)) ∷ (Data (Var 1 sort.Int) (Var 3 sort.Val) (Var 5 sort.List)) ∷ []) }); post = (record { opened = []; facts = ([]); locals = []; items = ((Data (Var 0 sort.Int) (Var 2 sort.Val) (Var 4 sort.List)) ∷ (Data (Var 1 sort.Int) (Var 3 sort.Val) (Var 5 sort.List)) ∷ []) }) }) ∷ []) }) (record { is_void = true; name = name_f; params = (name_p ∷ []); vars = ((name_s, sort.Int) ∷ (name_t, sort.Int) ∷ (name_v, sort.Val) ∷ (name_w, sort.Val) ∷ (name_k, sort.List) ∷ (name_m, sort.List) ∷ []); pre = (record { opened = []; facts = ((Rel relation.Ne (Var 3 sort.Val) (Var 2 sort.Val)) ∷ []); locals = []; items = ((Data (Var 0 sort.Int) (Var 2 sort.Val) (Var 4 sort.List)) ∷ (Data (Var 1 sort.Int) (Var 3 sort.Val) (Var 5 sort.List)) ∷ []) }); post = (record { opened = []; facts = ([]); locals = []; items = ((Data (Var 0 sort.Int) (Var 2 sort.Val) (Var 4 sort.List)) ∷ (Data (Var 1 sort.Int) (Var 3 sort.Val) (Var 5 sort.List)) ∷ []) }) }) (record { temps = (name_p ∷ []); body = (c.Then (c.Return None) c.End) }) (s.Then 1 (s.Have (Rel relation.Ne (Named name_s) (Named name_t)) ([])) s.NoBlock (s.Then 2 (s.Return ([]) ([]) ([])) s.NoBlock s.End)) ≡ (RefusedAt 1 25 3)
unfolding computing
conditions_646 = refl

conditions_647 : body_verdict (record { predicates = ([]); specs = ((record { is_void = true; name = name_f; params = (name_p ∷ []); vars = ((name_s, sort.Int) ∷ (name_t, sort.Int) ∷ (name_v, sort.Val) ∷ (name_w, sort.Val) ∷ (name_k, sort.List) ∷ (name_m, sort.List) ∷ []); pre = (record { opened = []; facts = ((Rel relation.Ne (Var 3 sort.Val) (Var 2 sort.Val)) ∷ []); locals = []; items = ((Data (Var 0 sort.Int) (Var 2 sort.Val) (Var 4 sort.List)) ∷ (Data (Var 1 sort.Int) (Var 3 sort.Val) (Var 5 sort.List)) ∷ []) }); post = (record { opened = []; facts = ([]); locals = []; items = ((Data (Var 0 sort.Int) (Var 2 sort.Val) (Var 4 sort.List)) ∷ (Data (Var 1 sort.Int) (Var 3 sort.Val) (Var 5 sort.List)) ∷ []) }) }) ∷ []) }) (record { is_void = true; name = name_f; params = (name_p ∷ []); vars = ((name_s, sort.Int) ∷ (name_t, sort.Int) ∷ (name_v, sort.Val) ∷ (name_w, sort.Val) ∷ (name_k, sort.List) ∷ (name_m, sort.List) ∷ []); pre = (record { opened = []; facts = ((Rel relation.Ne (Var 3 sort.Val) (Var 2 sort.Val)) ∷ []); locals = []; items = ((Data (Var 0 sort.Int) (Var 2 sort.Val) (Var 4 sort.List)) ∷ (Data (Var 1 sort.Int) (Var 3 sort.Val) (Var 5 sort.List)) ∷ []) }); post = (record { opened = []; facts = ([]); locals = []; items = ((Data (Var 0 sort.Int) (Var 2 sort.Val) (Var 4 sort.List)) ∷ (Data (Var 1 sort.Int) (Var 3 sort.Val) (Var 5 sort.List)) ∷ []) }) }) (record { temps = (name_p ∷ []); body = (c.Then (c.Return None) c.End) }) (s.Then 1 (s.Have (Rel relation.Le (Named name_s) (Named name_t)) ([])) s.NoBlock (s.Then 2 (s.Return ([]) ([]) ([])) s.NoBlock s.End)) ≡ (RefusedAt 1 25 3)
unfolding computing
conditions_647 = refl

conditions_648 : body_verdict (record { predicates = ([]); specs = ((record { is_void = true; name = name_f; params = (name_p ∷ []); vars = ((name_s, sort.Int) ∷ (name_t, sort.Int) ∷ (name_v, sort.Val) ∷ (name_w, sort.Val) ∷ (name_k, sort.List) ∷ (name_m, sort.List) ∷ []); pre = (record { opened = []; facts = ((Rel relation.Ne (Var 3 sort.Val) (Var 2 sort.Val)) ∷ []); locals = []; items = ((Data (Var 0 sort.Int) (Var 2 sort.Val) (Var 4 sort.List)) ∷ (Data (Var 1 sort.Int) (Var 3 sort.Val) (Var 5 sort.List)) ∷ []) }); post = (record { opened = []; facts = ([]); locals = []; items = ((Data (Var 0 sort.Int) (Var 2 sort.Val) (Var 4 sort.List)) ∷ (Data (Var 1 sort.Int) (Var 3 sort.Val) (Var 5 sort.List)) ∷ []) }) }) ∷ []) }) (record { is_void = true; name = name_f; params = (name_p ∷ []); vars = ((name_s, sort.Int) ∷ (name_t, sort.Int) ∷ (name_v, sort.Val) ∷ (name_w, sort.Val) ∷ (name_k, sort.List) ∷ (name_m, sort.List) ∷ []); pre = (record { opened = []; facts = ((Rel relation.Ne (Var 3 sort.Val) (Var 2 sort.Val)) ∷ []); locals = []; items = ((Data (Var 0 sort.Int) (Var 2 sort.Val) (Var 4 sort.List)) ∷ (Data (Var 1 sort.Int) (Var 3 sort.Val) (Var 5 sort.List)) ∷ []) }); post = (record { opened = []; facts = ([]); locals = []; items = ((Data (Var 0 sort.Int) (Var 2 sort.Val) (Var 4 sort.List)) ∷ (Data (Var 1 sort.Int) (Var 3 sort.Val) (Var 5 sort.List)) ∷ []) }) }) (record { temps = (name_p ∷ []); body = (c.Then (c.Return None) c.End) }) (s.Then 1 (s.Have (Rel relation.Lt (Named name_s) (Named name_t)) ([])) s.NoBlock (s.Then 2 (s.Return ([]) ([]) ([])) s.NoBlock s.End)) ≡ (RefusedAt 1 25 3)
unfolding computing
conditions_648 = refl

conditions_649 : body_verdict (record { predicates = ([]); specs = ((record { is_void = true; name = name_f; params = (name_p ∷ []); vars = ((name_s, sort.Int) ∷ (name_t, sort.Int) ∷ (name_v, sort.Val) ∷ (name_w, sort.Val) ∷ (name_k, sort.List) ∷ (name_m, sort.List) ∷ []); pre = (record { opened = []; facts = ((Rel relation.Ne (Var 3 sort.Val) (Var 2 sort.Val)) ∷ []); locals = []; items = ((Data (Var 0 sort.Int) (Var 2 sort.Val) (Var 4 sort.List)) ∷ (Data (Var 1 sort.Int) (Var 3 sort.Val) (Var 5 sort.List)) ∷ []) }); post = (record { opened = []; facts = ([]); locals = []; items = ((Data (Var 0 sort.Int) (Var 2 sort.Val) (Var 4 sort.List)) ∷ (Data (Var 1 sort.Int) (Var 3 sort.Val) (Var 5 sort.List)) ∷ []) }) }) ∷ []) }) (record { is_void = true; name = name_f; params = (name_p ∷ []); vars = ((name_s, sort.Int) ∷ (name_t, sort.Int) ∷ (name_v, sort.Val) ∷ (name_w, sort.Val) ∷ (name_k, sort.List) ∷ (name_m, sort.List) ∷ []); pre = (record { opened = []; facts = ((Rel relation.Ne (Var 3 sort.Val) (Var 2 sort.Val)) ∷ []); locals = []; items = ((Data (Var 0 sort.Int) (Var 2 sort.Val) (Var 4 sort.List)) ∷ (Data (Var 1 sort.Int) (Var 3 sort.Val) (Var 5 sort.List)) ∷ []) }); post = (record { opened = []; facts = ([]); locals = []; items = ((Data (Var 0 sort.Int) (Var 2 sort.Val) (Var 4 sort.List)) ∷ (Data (Var 1 sort.Int) (Var 3 sort.Val) (Var 5 sort.List)) ∷ []) }) }) (record { temps = (name_p ∷ []); body = (c.Then (c.Return None) c.End) }) (s.Then 1 (s.Have (Rel relation.Eq (Named name_v) (Named name_w)) ([])) s.NoBlock (s.Then 2 (s.Return ([]) ([]) ([])) s.NoBlock s.End)) ≡ (RefusedAt 1 25 3)
unfolding computing
conditions_649 = refl

conditions_650 : body_verdict (record { predicates = ([]); specs = ((record { is_void = true; name = name_f; params = (name_p ∷ []); vars = ((name_s, sort.Int) ∷ (name_t, sort.Int) ∷ (name_v, sort.Val) ∷ (name_w, sort.Val) ∷ (name_k, sort.List) ∷ (name_m, sort.List) ∷ []); pre = (record { opened = []; facts = ((Rel relation.Ne (Var 3 sort.Val) (Var 2 sort.Val)) ∷ []); locals = []; items = ((Data (Var 0 sort.Int) (Var 2 sort.Val) (Var 4 sort.List)) ∷ (Data (Var 1 sort.Int) (Var 3 sort.Val) (Var 5 sort.List)) ∷ []) }); post = (record { opened = []; facts = ([]); locals = []; items = ((Data (Var 0 sort.Int) (Var 2 sort.Val) (Var 4 sort.List)) ∷ (Data (Var 1 sort.Int) (Var 3 sort.Val) (Var 5 sort.List)) ∷ []) }) }) ∷ []) }) (record { is_void = true; name = name_f; params = (name_p ∷ []); vars = ((name_s, sort.Int) ∷ (name_t, sort.Int) ∷ (name_v, sort.Val) ∷ (name_w, sort.Val) ∷ (name_k, sort.List) ∷ (name_m, sort.List) ∷ []); pre = (record { opened = []; facts = ((Rel relation.Ne (Var 3 sort.Val) (Var 2 sort.Val)) ∷ []); locals = []; items = ((Data (Var 0 sort.Int) (Var 2 sort.Val) (Var 4 sort.List)) ∷ (Data (Var 1 sort.Int) (Var 3 sort.Val) (Var 5 sort.List)) ∷ []) }); post = (record { opened = []; facts = ([]); locals = []; items = ((Data (Var 0 sort.Int) (Var 2 sort.Val) (Var 4 sort.List)) ∷ (Data (Var 1 sort.Int) (Var 3 sort.Val) (Var 5 sort.List)) ∷ []) }) }) (record { temps = (name_p ∷ []); body = (c.Then (c.Return None) c.End) }) (s.Then 1 (s.Have (Rel relation.Ne (Named name_v) (Named name_w)) ([])) s.NoBlock (s.Then 2 (s.Return ([]) ([]) ([])) s.NoBlock s.End)) ≡ Accepted
unfolding computing
conditions_650 = refl

conditions_651 : body_verdict (record { predicates = ([]); specs = ((record { is_void = true; name = name_f; params = (name_p ∷ []); vars = ((name_s, sort.Int) ∷ (name_t, sort.Int) ∷ (name_v, sort.Val) ∷ (name_w, sort.Val) ∷ (name_k, sort.List) ∷ (name_m, sort.List) ∷ []); pre = (record { opened = []; facts = ((Rel relation.Le (Var 0 sort.Int) (Of2 binary.Add (Var 1 sort.Int) (Number (pos 1)))) ∷ []); locals = []; items = ((Data (Var 0 sort.Int) (Var 2 sort.Val) (Var 4 sort.List)) ∷ (Data (Var 1 sort.Int) (Var 3 sort.Val) (Var 5 sort.List)) ∷ []) }); post = (record { opened = []; facts = ([]); locals = []; items = ((Data (Var 0 sort.Int) (Var 2 sort.Val) (Var 4 sort.List)) ∷ (Data (Var 1 sort.Int) (Var 3 sort.Val) (Var 5 sort.List)) ∷ []) }) }) ∷ []) }) (record { is_void = true; name = name_f; params = (name_p ∷ []); vars = ((name_s, sort.Int) ∷ (name_t, sort.Int) ∷ (name_v, sort.Val) ∷ (name_w, sort.Val) ∷ (name_k, sort.List) ∷ (name_m, sort.List) ∷ []); pre = (record { opened = []; facts = ((Rel relation.Le (Var 0 sort.Int) (Of2 binary.Add (Var 1 sort.Int) (Number (pos 1)))) ∷ []); locals = []; items = ((Data (Var 0 sort.Int) (Var 2 sort.Val) (Var 4 sort.List)) ∷ (Data (Var 1 sort.Int) (Var 3 sort.Val) (Var 5 sort.List)) ∷ []) }); post = (record { opened = []; facts = ([]); locals = []; items = ((Data (Var 0 sort.Int) (Var 2 sort.Val) (Var 4 sort.List)) ∷ (Data (Var 1 sort.Int) (Var 3 sort.Val) (Var 5 sort.List)) ∷ []) }) }) (record { temps = (name_p ∷ []); body = (c.Then (c.Return None) c.End) }) (s.Then 1 (s.Have (Each (Named name_k) (Named name_s) (Named name_t)) ([])) s.NoBlock (s.Then 2 (s.Return ([]) ([]) ([])) s.NoBlock s.End)) ≡ (RefusedAt 1 25 3)
unfolding computing
conditions_651 = refl

conditions_652 : body_verdict (record { predicates = ([]); specs = ((record { is_void = true; name = name_f; params = (name_p ∷ []); vars = ((name_s, sort.Int) ∷ (name_t, sort.Int) ∷ (name_v, sort.Val) ∷ (name_w, sort.Val) ∷ (name_k, sort.List) ∷ (name_m, sort.List) ∷ []); pre = (record { opened = []; facts = ((Rel relation.Le (Var 0 sort.Int) (Of2 binary.Add (Var 1 sort.Int) (Number (pos 1)))) ∷ []); locals = []; items = ((Data (Var 0 sort.Int) (Var 2 sort.Val) (Var 4 sort.List)) ∷ (Data (Var 1 sort.Int) (Var 3 sort.Val) (Var 5 sort.List)) ∷ []) }); post = (record { opened = []; facts = ([]); locals = []; items = ((Data (Var 0 sort.Int) (Var 2 sort.Val) (Var 4 sort.List)) ∷ (Data (Var 1 sort.Int) (Var 3 sort.Val) (Var 5 sort.List)) ∷ []) }) }) ∷ []) }) (record { is_void = true; name = name_f; params = (name_p ∷ []); vars = ((name_s, sort.Int) ∷ (name_t, sort.Int) ∷ (name_v, sort.Val) ∷ (name_w, sort.Val) ∷ (name_k, sort.List) ∷ (name_m, sort.List) ∷ []); pre = (record { opened = []; facts = ((Rel relation.Le (Var 0 sort.Int) (Of2 binary.Add (Var 1 sort.Int) (Number (pos 1)))) ∷ []); locals = []; items = ((Data (Var 0 sort.Int) (Var 2 sort.Val) (Var 4 sort.List)) ∷ (Data (Var 1 sort.Int) (Var 3 sort.Val) (Var 5 sort.List)) ∷ []) }); post = (record { opened = []; facts = ([]); locals = []; items = ((Data (Var 0 sort.Int) (Var 2 sort.Val) (Var 4 sort.List)) ∷ (Data (Var 1 sort.Int) (Var 3 sort.Val) (Var 5 sort.List)) ∷ []) }) }) (record { temps = (name_p ∷ []); body = (c.Then (c.Return None) c.End) }) (s.Then 1 (s.Have (IsInt (Named name_v)) ([])) s.NoBlock (s.Then 2 (s.Return ([]) ([]) ([])) s.NoBlock s.End)) ≡ (RefusedAt 1 25 3)
unfolding computing
conditions_652 = refl

conditions_653 : body_verdict (record { predicates = ([]); specs = ((record { is_void = true; name = name_f; params = (name_p ∷ []); vars = ((name_s, sort.Int) ∷ (name_t, sort.Int) ∷ (name_v, sort.Val) ∷ (name_w, sort.Val) ∷ (name_k, sort.List) ∷ (name_m, sort.List) ∷ []); pre = (record { opened = []; facts = ((Rel relation.Le (Var 0 sort.Int) (Of2 binary.Add (Var 1 sort.Int) (Number (pos 1)))) ∷ []); locals = []; items = ((Data (Var 0 sort.Int) (Var 2 sort.Val) (Var 4 sort.List)) ∷ (Data (Var 1 sort.Int) (Var 3 sort.Val) (Var 5 sort.List)) ∷ []) }); post = (record { opened = []; facts = ([]); locals = []; items = ((Data (Var 0 sort.Int) (Var 2 sort.Val) (Var 4 sort.List)) ∷ (Data (Var 1 sort.Int) (Var 3 sort.Val) (Var 5 sort.List)) ∷ []) }) }) ∷ []) }) (record { is_void = true; name = name_f; params = (name_p ∷ []); vars = ((name_s, sort.Int) ∷ (name_t, sort.Int) ∷ (name_v, sort.Val) ∷ (name_w, sort.Val) ∷ (name_k, sort.List) ∷ (name_m, sort.List) ∷ []); pre = (record { opened = []; facts = ((Rel relation.Le (Var 0 sort.Int) (Of2 binary.Add (Var 1 sort.Int) (Number (pos 1)))) ∷ []); locals = []; items = ((Data (Var 0 sort.Int) (Var 2 sort.Val) (Var 4 sort.List)) ∷ (Data (Var 1 sort.Int) (Var 3 sort.Val) (Var 5 sort.List)) ∷ []) }); post = (record { opened = []; facts = ([]); locals = []; items = ((Data (Var 0 sort.Int) (Var 2 sort.Val) (Var 4 sort.List)) ∷ (Data (Var 1 sort.Int) (Var 3 sort.Val) (Var 5 sort.List)) ∷ []) }) }) (record { temps = (name_p ∷ []); body = (c.Then (c.Return None) c.End) }) (s.Then 1 (s.Have (IsPtr (Named name_v)) ([])) s.NoBlock (s.Then 2 (s.Return ([]) ([]) ([])) s.NoBlock s.End)) ≡ (RefusedAt 1 25 3)
unfolding computing
conditions_653 = refl

conditions_654 : body_verdict (record { predicates = ([]); specs = ((record { is_void = true; name = name_f; params = (name_p ∷ []); vars = ((name_s, sort.Int) ∷ (name_t, sort.Int) ∷ (name_v, sort.Val) ∷ (name_w, sort.Val) ∷ (name_k, sort.List) ∷ (name_m, sort.List) ∷ []); pre = (record { opened = []; facts = ((Rel relation.Le (Var 0 sort.Int) (Of2 binary.Add (Var 1 sort.Int) (Number (pos 1)))) ∷ []); locals = []; items = ((Data (Var 0 sort.Int) (Var 2 sort.Val) (Var 4 sort.List)) ∷ (Data (Var 1 sort.Int) (Var 3 sort.Val) (Var 5 sort.List)) ∷ []) }); post = (record { opened = []; facts = ([]); locals = []; items = ((Data (Var 0 sort.Int) (Var 2 sort.Val) (Var 4 sort.List)) ∷ (Data (Var 1 sort.Int) (Var 3 sort.Val) (Var 5 sort.List)) ∷ []) }) }) ∷ []) }) (record { is_void = true; name = name_f; params = (name_p ∷ []); vars = ((name_s, sort.Int) ∷ (name_t, sort.Int) ∷ (name_v, sort.Val) ∷ (name_w, sort.Val) ∷ (name_k, sort.List) ∷ (name_m, sort.List) ∷ []); pre = (record { opened = []; facts = ((Rel relation.Le (Var 0 sort.Int) (Of2 binary.Add (Var 1 sort.Int) (Number (pos 1)))) ∷ []); locals = []; items = ((Data (Var 0 sort.Int) (Var 2 sort.Val) (Var 4 sort.List)) ∷ (Data (Var 1 sort.Int) (Var 3 sort.Val) (Var 5 sort.List)) ∷ []) }); post = (record { opened = []; facts = ([]); locals = []; items = ((Data (Var 0 sort.Int) (Var 2 sort.Val) (Var 4 sort.List)) ∷ (Data (Var 1 sort.Int) (Var 3 sort.Val) (Var 5 sort.List)) ∷ []) }) }) (record { temps = (name_p ∷ []); body = (c.Then (c.Return None) c.End) }) (s.Then 1 (s.Have (Rel relation.Eq (Named name_s) (Named name_t)) ([])) s.NoBlock (s.Then 2 (s.Return ([]) ([]) ([])) s.NoBlock s.End)) ≡ (RefusedAt 1 25 3)
unfolding computing
conditions_654 = refl

conditions_655 : body_verdict (record { predicates = ([]); specs = ((record { is_void = true; name = name_f; params = (name_p ∷ []); vars = ((name_s, sort.Int) ∷ (name_t, sort.Int) ∷ (name_v, sort.Val) ∷ (name_w, sort.Val) ∷ (name_k, sort.List) ∷ (name_m, sort.List) ∷ []); pre = (record { opened = []; facts = ((Rel relation.Le (Var 0 sort.Int) (Of2 binary.Add (Var 1 sort.Int) (Number (pos 1)))) ∷ []); locals = []; items = ((Data (Var 0 sort.Int) (Var 2 sort.Val) (Var 4 sort.List)) ∷ (Data (Var 1 sort.Int) (Var 3 sort.Val) (Var 5 sort.List)) ∷ []) }); post = (record { opened = []; facts = ([]); locals = []; items = ((Data (Var 0 sort.Int) (Var 2 sort.Val) (Var 4 sort.List)) ∷ (Data (Var 1 sort.Int) (Var 3 sort.Val) (Var 5 sort.List)) ∷ []) }) }) ∷ []) }) (record { is_void = true; name = name_f; params = (name_p ∷ []); vars = ((name_s, sort.Int) ∷ (name_t, sort.Int) ∷ (name_v, sort.Val) ∷ (name_w, sort.Val) ∷ (name_k, sort.List) ∷ (name_m, sort.List) ∷ []); pre = (record { opened = []; facts = ((Rel relation.Le (Var 0 sort.Int) (Of2 binary.Add (Var 1 sort.Int) (Number (pos 1)))) ∷ []); locals = []; items = ((Data (Var 0 sort.Int) (Var 2 sort.Val) (Var 4 sort.List)) ∷ (Data (Var 1 sort.Int) (Var 3 sort.Val) (Var 5 sort.List)) ∷ []) }); post = (record { opened = []; facts = ([]); locals = []; items = ((Data (Var 0 sort.Int) (Var 2 sort.Val) (Var 4 sort.List)) ∷ (Data (Var 1 sort.Int) (Var 3 sort.Val) (Var 5 sort.List)) ∷ []) }) }) (record { temps = (name_p ∷ []); body = (c.Then (c.Return None) c.End) }) (s.Then 1 (s.Have (Rel relation.Ne (Named name_s) (Named name_t)) ([])) s.NoBlock (s.Then 2 (s.Return ([]) ([]) ([])) s.NoBlock s.End)) ≡ (RefusedAt 1 25 3)
unfolding computing
conditions_655 = refl

conditions_656 : body_verdict (record { predicates = ([]); specs = ((record { is_void = true; name = name_f; params = (name_p ∷ []); vars = ((name_s, sort.Int) ∷ (name_t, sort.Int) ∷ (name_v, sort.Val) ∷ (name_w, sort.Val) ∷ (name_k, sort.List) ∷ (name_m, sort.List) ∷ []); pre = (record { opened = []; facts = ((Rel relation.Le (Var 0 sort.Int) (Of2 binary.Add (Var 1 sort.Int) (Number (pos 1)))) ∷ []); locals = []; items = ((Data (Var 0 sort.Int) (Var 2 sort.Val) (Var 4 sort.List)) ∷ (Data (Var 1 sort.Int) (Var 3 sort.Val) (Var 5 sort.List)) ∷ []) }); post = (record { opened = []; facts = ([]); locals = []; items = ((Data (Var 0 sort.Int) (Var 2 sort.Val) (Var 4 sort.List)) ∷ (Data (Var 1 sort.Int) (Var 3 sort.Val) (Var 5 sort.List)) ∷ []) }) }) ∷ []) }) (record { is_void = true; name = name_f; params = (name_p ∷ []); vars = ((name_s, sort.Int) ∷ (name_t, sort.Int) ∷ (name_v, sort.Val) ∷ (name_w, sort.Val) ∷ (name_k, sort.List) ∷ (name_m, sort.List) ∷ []); pre = (record { opened = []; facts = ((Rel relation.Le (Var 0 sort.Int) (Of2 binary.Add (Var 1 sort.Int) (Number (pos 1)))) ∷ []); locals = []; items = ((Data (Var 0 sort.Int) (Var 2 sort.Val) (Var 4 sort.List)) ∷ (Data (Var 1 sort.Int) (Var 3 sort.Val) (Var 5 sort.List)) ∷ []) }); post = (record { opened = []; facts = ([]); locals = []; items = ((Data (Var 0 sort.Int) (Var 2 sort.Val) (Var 4 sort.List)) ∷ (Data (Var 1 sort.Int) (Var 3 sort.Val) (Var 5 sort.List)) ∷ []) }) }) (record { temps = (name_p ∷ []); body = (c.Then (c.Return None) c.End) }) (s.Then 1 (s.Have (Rel relation.Le (Named name_s) (Named name_t)) ([])) s.NoBlock (s.Then 2 (s.Return ([]) ([]) ([])) s.NoBlock s.End)) ≡ (RefusedAt 1 25 3)
unfolding computing
conditions_656 = refl

conditions_657 : body_verdict (record { predicates = ([]); specs = ((record { is_void = true; name = name_f; params = (name_p ∷ []); vars = ((name_s, sort.Int) ∷ (name_t, sort.Int) ∷ (name_v, sort.Val) ∷ (name_w, sort.Val) ∷ (name_k, sort.List) ∷ (name_m, sort.List) ∷ []); pre = (record { opened = []; facts = ((Rel relation.Le (Var 0 sort.Int) (Of2 binary.Add (Var 1 sort.Int) (Number (pos 1)))) ∷ []); locals = []; items = ((Data (Var 0 sort.Int) (Var 2 sort.Val) (Var 4 sort.List)) ∷ (Data (Var 1 sort.Int) (Var 3 sort.Val) (Var 5 sort.List)) ∷ []) }); post = (record { opened = []; facts = ([]); locals = []; items = ((Data (Var 0 sort.Int) (Var 2 sort.Val) (Var 4 sort.List)) ∷ (Data (Var 1 sort.Int) (Var 3 sort.Val) (Var 5 sort.List)) ∷ []) }) }) ∷ []) }) (record { is_void = true; name = name_f; params = (name_p ∷ []); vars = ((name_s, sort.Int) ∷ (name_t, sort.Int) ∷ (name_v, sort.Val) ∷ (name_w, sort.Val) ∷ (name_k, sort.List) ∷ (name_m, sort.List) ∷ []); pre = (record { opened = []; facts = ((Rel relation.Le (Var 0 sort.Int) (Of2 binary.Add (Var 1 sort.Int) (Number (pos 1)))) ∷ []); locals = []; items = ((Data (Var 0 sort.Int) (Var 2 sort.Val) (Var 4 sort.List)) ∷ (Data (Var 1 sort.Int) (Var 3 sort.Val) (Var 5 sort.List)) ∷ []) }); post = (record { opened = []; facts = ([]); locals = []; items = ((Data (Var 0 sort.Int) (Var 2 sort.Val) (Var 4 sort.List)) ∷ (Data (Var 1 sort.Int) (Var 3 sort.Val) (Var 5 sort.List)) ∷ []) }) }) (record { temps = (name_p ∷ []); body = (c.Then (c.Return None) c.End) }) (s.Then 1 (s.Have (Rel relation.Lt (Named name_s) (Named name_t)) ([])) s.NoBlock (s.Then 2 (s.Return ([]) ([]) ([])) s.NoBlock s.End)) ≡ (RefusedAt 1 25 3)
unfolding computing
conditions_657 = refl

conditions_658 : body_verdict (record { predicates = ([]); specs = ((record { is_void = true; name = name_f; params = (name_p ∷ []); vars = ((name_s, sort.Int) ∷ (name_t, sort.Int) ∷ (name_v, sort.Val) ∷ (name_w, sort.Val) ∷ (name_k, sort.List) ∷ (name_m, sort.List) ∷ []); pre = (record { opened = []; facts = ((Rel relation.Le (Var 0 sort.Int) (Of2 binary.Add (Var 1 sort.Int) (Number (pos 1)))) ∷ []); locals = []; items = ((Data (Var 0 sort.Int) (Var 2 sort.Val) (Var 4 sort.List)) ∷ (Data (Var 1 sort.Int) (Var 3 sort.Val) (Var 5 sort.List)) ∷ []) }); post = (record { opened = []; facts = ([]); locals = []; items = ((Data (Var 0 sort.Int) (Var 2 sort.Val) (Var 4 sort.List)) ∷ (Data (Var 1 sort.Int) (Var 3 sort.Val) (Var 5 sort.List)) ∷ []) }) }) ∷ []) }) (record { is_void = true; name = name_f; params = (name_p ∷ []); vars = ((name_s, sort.Int) ∷ (name_t, sort.Int) ∷ (name_v, sort.Val) ∷ (name_w, sort.Val) ∷ (name_k, sort.List) ∷ (name_m, sort.List) ∷ []); pre = (record { opened = []; facts = ((Rel relation.Le (Var 0 sort.Int) (Of2 binary.Add (Var 1 sort.Int) (Number (pos 1)))) ∷ []); locals = []; items = ((Data (Var 0 sort.Int) (Var 2 sort.Val) (Var 4 sort.List)) ∷ (Data (Var 1 sort.Int) (Var 3 sort.Val) (Var 5 sort.List)) ∷ []) }); post = (record { opened = []; facts = ([]); locals = []; items = ((Data (Var 0 sort.Int) (Var 2 sort.Val) (Var 4 sort.List)) ∷ (Data (Var 1 sort.Int) (Var 3 sort.Val) (Var 5 sort.List)) ∷ []) }) }) (record { temps = (name_p ∷ []); body = (c.Then (c.Return None) c.End) }) (s.Then 1 (s.Have (Rel relation.Eq (Named name_v) (Named name_w)) ([])) s.NoBlock (s.Then 2 (s.Return ([]) ([]) ([])) s.NoBlock s.End)) ≡ (RefusedAt 1 25 3)
unfolding computing
conditions_658 = refl

conditions_659 : body_verdict (record { predicates = ([]); specs = ((record { is_void = true; name = name_f; params = (name_p ∷ []); vars = ((name_s, sort.Int) ∷ (name_t, sort.Int) ∷ (name_v, sort.Val) ∷ (name_w, sort.Val) ∷ (name_k, sort.List) ∷ (name_m, sort.List) ∷ []); pre = (record { opened = []; facts = ((Rel relation.Le (Var 0 sort.Int) (Of2 binary.Add (Var 1 sort.Int) (Number (pos 1)))) ∷ []); locals = []; items = ((Data (Var 0 sort.Int) (Var 2 sort.Val) (Var 4 sort.List)) ∷ (Data (Var 1 sort.Int) (Var 3 sort.Val) (Var 5 sort.List)) ∷ []) }); post = (record { opened = []; facts = ([]); locals = []; items = ((Data (Var 0 sort.Int) (Var 2 sort.Val) (Var 4 sort.List)) ∷ (Data (Var 1 sort.Int) (Var 3 sort.Val) (Var 5 sort.List)) ∷ []) }) }) ∷ []) }) (record { is_void = true; name = name_f; params = (name_p ∷ []); vars = ((name_s, sort.Int) ∷ (name_t, sort.Int) ∷ (name_v, sort.Val) ∷ (name_w, sort.Val) ∷ (name_k, sort.List) ∷ (name_m, sort.List) ∷ []); pre = (record { opened = []; facts = ((Rel relation.Le (Var 0 sort.Int) (Of2 binary.Add (Var 1 sort.Int) (Number (pos 1)))) ∷ []); locals = []; items = ((Data (Var 0 sort.Int) (Var 2 sort.Val) (Var 4 sort.List)) ∷ (Data (Var 1 sort.Int) (Var 3 sort.Val) (Var 5 sort.List)) ∷ []) }); post = (record { opened = []; facts = ([]); locals = []; items = ((Data (Var 0 sort.Int) (Var 2 sort.Val) (Var 4 sort.List)) ∷ (Data (Var 1 sort.Int) (Var 3 sort.Val) (Var 5 sort.List)) ∷ []) }) }) (record { temps = (name_p ∷ []); body = (c.Then (c.Return None) c.End) }) (s.Then 1 (s.Have (Rel relation.Ne (Named name_v) (Named name_w)) ([])) s.NoBlock (s.Then 2 (s.Return ([]) ([]) ([])) s.NoBlock s.End)) ≡ (RefusedAt 1 25 3)
unfolding computing
conditions_659 = refl

conditions_660 : body_verdict (record { predicates = ([]); specs = ((record { is_void = true; name = name_f; params = (name_p ∷ []); vars = ((name_s, sort.Int) ∷ (name_t, sort.Int) ∷ (name_v, sort.Val) ∷ (name_w, sort.Val) ∷ (name_k, sort.List) ∷ (name_m, sort.List) ∷ []); pre = (record { opened = []; facts = ((Rel relation.Lt (Var 0 sort.Int) (Of2 binary.Add (Var 1 sort.Int) (Number (pos 1)))) ∷ []); locals = []; items = ((Data (Var 0 sort.Int) (Var 2 sort.Val) (Var 4 sort.List)) ∷ (Data (Var 1 sort.Int) (Var 3 sort.Val) (Var 5 sort.List)) ∷ []) }); post = (record { opened = []; facts = ([]); locals = []; items = ((Data (Var 0 sort.Int) (Var 2 sort.Val) (Var 4 sort.List)) ∷ (Data (Var 1 sort.Int) (Var 3 sort.Val) (Var 5 sort.List)) ∷ []) }) }) ∷ []) }) (record { is_void = true; name = name_f; params = (name_p ∷ []); vars = ((name_s, sort.Int) ∷ (name_t, sort.Int) ∷ (name_v, sort.Val) ∷ (name_w, sort.Val) ∷ (name_k, sort.List) ∷ (name_m, sort.List) ∷ []); pre = (record { opened = []; facts = ((Rel relation.Lt (Var 0 sort.Int) (Of2 binary.Add (Var 1 sort.Int) (Number (pos 1)))) ∷ []); locals = []; items = ((Data (Var 0 sort.Int) (Var 2 sort.Val) (Var 4 sort.List)) ∷ (Data (Var 1 sort.Int) (Var 3 sort.Val) (Var 5 sort.List)) ∷ []) }); post = (record { opened = []; facts = ([]); locals = []; items = ((Data (Var 0 sort.Int) (Var 2 sort.Val) (Var 4 sort.List)) ∷ (Data (Var 1 sort.Int) (Var 3 sort.Val) (Var 5 sort.List)) ∷ []) }) }) (record { temps = (name_p ∷ []); body = (c.Then (c.Return None) c.End) }) (s.Then 1 (s.Have (Each (Named name_k) (Named name_s) (Named name_t)) ([])) s.NoBlock (s.Then 2 (s.Return ([]) ([]) ([])) s.NoBlock s.End)) ≡ (RefusedAt 1 25 3)
unfolding computing
conditions_660 = refl

conditions_661 : body_verdict (record { predicates = ([]); specs = ((record { is_void = true; name = name_f; params = (name_p ∷ []); vars = ((name_s, sort.Int) ∷ (name_t, sort.Int) ∷ (name_v, sort.Val) ∷ (name_w, sort.Val) ∷ (name_k, sort.List) ∷ (name_m, sort.List) ∷ []); pre = (record { opened = []; facts = ((Rel relation.Lt (Var 0 sort.Int) (Of2 binary.Add (Var 1 sort.Int) (Number (pos 1)))) ∷ []); locals = []; items = ((Data (Var 0 sort.Int) (Var 2 sort.Val) (Var 4 sort.List)) ∷ (Data (Var 1 sort.Int) (Var 3 sort.Val) (Var 5 sort.List)) ∷ []) }); post = (record { opened = []; facts = ([]); locals = []; items = ((Data (Var 0 sort.Int) (Var 2 sort.Val) (Var 4 sort.List)) ∷ (Data (Var 1 sort.Int) (Var 3 sort.Val) (Var 5 sort.List)) ∷ []) }) }) ∷ []) }) (record { is_void = true; name = name_f; params = (name_p ∷ []); vars = ((name_s, sort.Int) ∷ (name_t, sort.Int) ∷ (name_v, sort.Val) ∷ (name_w, sort.Val) ∷ (name_k, sort.List) ∷ (name_m, sort.List) ∷ []); pre = (record { opened = []; facts = ((Rel relation.Lt (Var 0 sort.Int) (Of2 binary.Add (Var 1 sort.Int) (Number (pos 1)))) ∷ []); locals = []; items = ((Data (Var 0 sort.Int) (Var 2 sort.Val) (Var 4 sort.List)) ∷ (Data (Var 1 sort.Int) (Var 3 sort.Val) (Var 5 sort.List)) ∷ []) }); post = (record { opened = []; facts = ([]); locals = []; items = ((Data (Var 0 sort.Int) (Var 2 sort.Val) (Var 4 sort.List)) ∷ (Data (Var 1 sort.Int) (Var 3 sort.Val) (Var 5 sort.List)) ∷ []) }) }) (record { temps = (name_p ∷ []); body = (c.Then (c.Return None) c.End) }) (s.Then 1 (s.Have (IsInt (Named name_v)) ([])) s.NoBlock (s.Then 2 (s.Return ([]) ([]) ([])) s.NoBlock s.End)) ≡ (RefusedAt 1 25 3)
unfolding computing
conditions_661 = refl

conditions_662 : body_verdict (record { predicates = ([]); specs = ((record { is_void = true; name = name_f; params = (name_p ∷ []); vars = ((name_s, sort.Int) ∷ (name_t, sort.Int) ∷ (name_v, sort.Val) ∷ (name_w, sort.Val) ∷ (name_k, sort.List) ∷ (name_m, sort.List) ∷ []); pre = (record { opened = []; facts = ((Rel relation.Lt (Var 0 sort.Int) (Of2 binary.Add (Var 1 sort.Int) (Number (pos 1)))) ∷ []); locals = []; items = ((Data (Var 0 sort.Int) (Var 2 sort.Val) (Var 4 sort.List)) ∷ (Data (Var 1 sort.Int) (Var 3 sort.Val) (Var 5 sort.List)) ∷ []) }); post = (record { opened = []; facts = ([]); locals = []; items = ((Data (Var 0 sort.Int) (Var 2 sort.Val) (Var 4 sort.List)) ∷ (Data (Var 1 sort.Int) (Var 3 sort.Val) (Var 5 sort.List)) ∷ []) }) }) ∷ []) }) (record { is_void = true; name = name_f; params = (name_p ∷ []); vars = ((name_s, sort.Int) ∷ (name_t, sort.Int) ∷ (name_v, sort.Val) ∷ (name_w, sort.Val) ∷ (name_k, sort.List) ∷ (name_m, sort.List) ∷ []); pre = (record { opened = []; facts = ((Rel relation.Lt (Var 0 sort.Int) (Of2 binary.Add (Var 1 sort.Int) (Number (pos 1)))) ∷ []); locals = []; items = ((Data (Var 0 sort.Int) (Var 2 sort.Val) (Var 4 sort.List)) ∷ (Data (Var 1 sort.Int) (Var 3 sort.Val) (Var 5 sort.List)) ∷ []) }); post = (record { opened = []; facts = ([]); locals = []; items = ((Data (Var 0 sort.Int) (Var 2 sort.Val) (Var 4 sort.List)) ∷ (Data (Var 1 sort.Int) (Var 3 sort.Val) (Var 5 sort.List)) ∷ []) }) }) (record { temps = (name_p ∷ []); body = (c.Then (c.Return None) c.End) }) (s.Then 1 (s.Have (IsPtr (Named name_v)) ([])) s.NoBlock (s.Then 2 (s.Return ([]) ([]) ([])) s.NoBlock s.End)) ≡ (RefusedAt 1 25 3)
unfolding computing
conditions_662 = refl

conditions_663 : body_verdict (record { predicates = ([]); specs = ((record { is_void = true; name = name_f; params = (name_p ∷ []); vars = ((name_s, sort.Int) ∷ (name_t, sort.Int) ∷ (name_v, sort.Val) ∷ (name_w, sort.Val) ∷ (name_k, sort.List) ∷ (name_m, sort.List) ∷ []); pre = (record { opened = []; facts = ((Rel relation.Lt (Var 0 sort.Int) (Of2 binary.Add (Var 1 sort.Int) (Number (pos 1)))) ∷ []); locals = []; items = ((Data (Var 0 sort.Int) (Var 2 sort.Val) (Var 4 sort.List)) ∷ (Data (Var 1 sort.Int) (Var 3 sort.Val) (Var 5 sort.List)) ∷ []) }); post = (record { opened = []; facts = ([]); locals = []; items = ((Data (Var 0 sort.Int) (Var 2 sort.Val) (Var 4 sort.List)) ∷ (Data (Var 1 sort.Int) (Var 3 sort.Val) (Var 5 sort.List)) ∷ []) }) }) ∷ []) }) (record { is_void = true; name = name_f; params = (name_p ∷ []); vars = ((name_s, sort.Int) ∷ (name_t, sort.Int) ∷ (name_v, sort.Val) ∷ (name_w, sort.Val) ∷ (name_k, sort.List) ∷ (name_m, sort.List) ∷ []); pre = (record { opened = []; facts = ((Rel relation.Lt (Var 0 sort.Int) (Of2 binary.Add (Var 1 sort.Int) (Number (pos 1)))) ∷ []); locals = []; items = ((Data (Var 0 sort.Int) (Var 2 sort.Val) (Var 4 sort.List)) ∷ (Data (Var 1 sort.Int) (Var 3 sort.Val) (Var 5 sort.List)) ∷ []) }); post = (record { opened = []; facts = ([]); locals = []; items = ((Data (Var 0 sort.Int) (Var 2 sort.Val) (Var 4 sort.List)) ∷ (Data (Var 1 sort.Int) (Var 3 sort.Val) (Var 5 sort.List)) ∷ []) }) }) (record { temps = (name_p ∷ []); body = (c.Then (c.Return None) c.End) }) (s.Then 1 (s.Have (Rel relation.Eq (Named name_s) (Named name_t)) ([])) s.NoBlock (s.Then 2 (s.Return ([]) ([]) ([])) s.NoBlock s.End)) ≡ (RefusedAt 1 25 3)
unfolding computing
conditions_663 = refl

conditions_664 : body_verdict (record { predicates = ([]); specs = ((record { is_void = true; name = name_f; params = (name_p ∷ []); vars = ((name_s, sort.Int) ∷ (name_t, sort.Int) ∷ (name_v, sort.Val) ∷ (name_w, sort.Val) ∷ (name_k, sort.List) ∷ (name_m, sort.List) ∷ []); pre = (record { opened = []; facts = ((Rel relation.Lt (Var 0 sort.Int) (Of2 binary.Add (Var 1 sort.Int) (Number (pos 1)))) ∷ []); locals = []; items = ((Data (Var 0 sort.Int) (Var 2 sort.Val) (Var 4 sort.List)) ∷ (Data (Var 1 sort.Int) (Var 3 sort.Val) (Var 5 sort.List)) ∷ []) }); post = (record { opened = []; facts = ([]); locals = []; items = ((Data (Var 0 sort.Int) (Var 2 sort.Val) (Var 4 sort.List)) ∷ (Data (Var 1 sort.Int) (Var 3 sort.Val) (Var 5 sort.List)) ∷ []) }) }) ∷ []) }) (record { is_void = true; name = name_f; params = (name_p ∷ []); vars = ((name_s, sort.Int) ∷ (name_t, sort.Int) ∷ (name_v, sort.Val) ∷ (name_w, sort.Val) ∷ (name_k, sort.List) ∷ (name_m, sort.List) ∷ []); pre = (record { opened = []; facts = ((Rel relation.Lt (Var 0 sort.Int) (Of2 binary.Add (Var 1 sort.Int) (Number (pos 1)))) ∷ []); locals = []; items = ((Data (Var 0 sort.Int) (Var 2 sort.Val) (Var 4 sort.List)) ∷ (Data (Var 1 sort.Int) (Var 3 sort.Val) (Var 5 sort.List)) ∷ []) }); post = (record { opened = []; facts = ([]); locals = []; items = ((Data (Var 0 sort.Int) (Var 2 sort.Val) (Var 4 sort.List)) ∷ (Data (Var 1 sort.Int) (Var 3 sort.Val) (Var 5 sort.List)) ∷ []) }) }) (record { temps = (name_p ∷ []); body = (c.Then (c.Return None) c.End) }) (s.Then 1 (s.Have (Rel relation.Ne (Named name_s) (Named name_t)) ([])) s.NoBlock (s.Then 2 (s.Return ([]) ([]) ([])) s.NoBlock s.End)) ≡ (RefusedAt 1 25 3)
unfolding computing
conditions_664 = refl

conditions_665 : body_verdict (record { predicates = ([]); specs = ((record { is_void = true; name = name_f; params = (name_p ∷ []); vars = ((name_s, sort.Int) ∷ (name_t, sort.Int) ∷ (name_v, sort.Val) ∷ (name_w, sort.Val) ∷ (name_k, sort.List) ∷ (name_m, sort.List) ∷ []); pre = (record { opened = []; facts = ((Rel relation.Lt (Var 0 sort.Int) (Of2 binary.Add (Var 1 sort.Int) (Number (pos 1)))) ∷ []); locals = []; items = ((Data (Var 0 sort.Int) (Var 2 sort.Val) (Var 4 sort.List)) ∷ (Data (Var 1 sort.Int) (Var 3 sort.Val) (Var 5 sort.List)) ∷ []) }); post = (record { opened = []; facts = ([]); locals = []; items = ((Data (Var 0 sort.Int) (Var 2 sort.Val) (Var 4 sort.List)) ∷ (Data (Var 1 sort.Int) (Var 3 sort.Val) (Var 5 sort.List)) ∷ []) }) }) ∷ []) }) (record { is_void = true; name = name_f; params = (name_p ∷ []); vars = ((name_s, sort.Int) ∷ (name_t, sort.Int) ∷ (name_v, sort.Val) ∷ (name_w, sort.Val) ∷ (name_k, sort.List) ∷ (name_m, sort.List) ∷ []); pre = (record { opened = []; facts = ((Rel relation.Lt (Var 0 sort.Int) (Of2 binary.Add (Var 1 sort.Int) (Number (pos 1)))) ∷ []); locals = []; items = ((Data (Var 0 sort.Int) (Var 2 sort.Val) (Var 4 sort.List)) ∷ (Data (Var 1 sort.Int) (Var 3 sort.Val) (Var 5 sort.List)) ∷ []) }); post = (record { opened = []; facts = ([]); locals = []; items = ((Data (Var 0 sort.Int) (Var 2 sort.Val) (Var 4 sort.List)) ∷ (Data (Var 1 sort.Int) (Var 3 sort.Val) (Var 5 sort.List)) ∷ []) }) }) (record { temps = (name_p ∷ []); body = (c.Then (c.Return None) c.End) }) (s.Then 1 (s.Have (Rel relation.Le (Named name_s) (Named name_t)) ([])) s.NoBlock (s.Then 2 (s.Return ([]) ([]) ([])) s.NoBlock s.End)) ≡ Accepted
unfolding computing
conditions_665 = refl

conditions_666 : body_verdict (record { predicates = ([]); specs = ((record { is_void = true; name = name_f; params = (name_p ∷ []); vars = ((name_s, sort.Int) ∷ (name_t, sort.Int) ∷ (name_v, sort.Val) ∷ (name_w, sort.Val) ∷ (name_k, sort.List) ∷ (name_m, sort.List) ∷ []); pre = (record { opened = []; facts = ((Rel relation.Lt (Var 0 sort.Int) (Of2 binary.Add (Var 1 sort.Int) (Number (pos 1)))) ∷ []); locals = []; items = ((Data (Var 0 sort.Int) (Var 2 sort.Val) (Var 4 sort.List)) ∷ (Data (Var 1 sort.Int) (Var 3 sort.Val) (Var 5 sort.List)) ∷ []) }); post = (record { opened = []; facts = ([]); locals = []; items = ((Data (Var 0 sort.Int) (Var 2 sort.Val) (Var 4 sort.List)) ∷ (Data (Var 1 sort.Int) (Var 3 sort.Val) (Var 5 sort.List)) ∷ []) }) }) ∷ []) }) (record { is_void = true; name = name_f; params = (name_p ∷ []); vars = ((name_s, sort.Int) ∷ (name_t, sort.Int) ∷ (name_v, sort.Val) ∷ (name_w, sort.Val) ∷ (name_k, sort.List) ∷ (name_m, sort.List) ∷ []); pre = (record { opened = []; facts = ((Rel relation.Lt (Var 0 sort.Int) (Of2 binary.Add (Var 1 sort.Int) (Number (pos 1)))) ∷ []); locals = []; items = ((Data (Var 0 sort.Int) (Var 2 sort.Val) (Var 4 sort.List)) ∷ (Data (Var 1 sort.Int) (Var 3 sort.Val) (Var 5 sort.List)) ∷ []) }); post = (record { opened = []; facts = ([]); locals = []; items = ((Data (Var 0 sort.Int) (Var 2 sort.Val) (Var 4 sort.List)) ∷ (Data (Var 1 sort.Int) (Var 3 sort.Val) (Var 5 sort.List)) ∷ []) }) }) (record { temps = (name_p ∷ []); body = (c.Then (c.Return None) c.End) }) (s.Then 1 (s.Have (Rel relation.Lt (Named name_s) (Named name_t)) ([])) s.NoBlock (s.Then 2 (s.Return ([]) ([]) ([])) s.NoBlock s.End)) ≡ (RefusedAt 1 25 3)
unfolding computing
conditions_666 = refl

conditions_667 : body_verdict (record { predicates = ([]); specs = ((record { is_void = true; name = name_f; params = (name_p ∷ []); vars = ((name_s, sort.Int) ∷ (name_t, sort.Int) ∷ (name_v, sort.Val) ∷ (name_w, sort.Val) ∷ (name_k, sort.List) ∷ (name_m, sort.List) ∷ []); pre = (record { opened = []; facts = ((Rel relation.Lt (Var 0 sort.Int) (Of2 binary.Add (Var 1 sort.Int) (Number (pos 1)))) ∷ []); locals = []; items = ((Data (Var 0 sort.Int) (Var 2 sort.Val) (Var 4 sort.List)) ∷ (Data (Var 1 sort.Int) (Var 3 sort.Val) (Var 5 sort.List)) ∷ []) }); post = (record { opened = []; facts = ([]); locals = []; items = ((Data (Var 0 sort.Int) (Var 2 sort.Val) (Var 4 sort.List)) ∷ (Data (Var 1 sort.Int) (Var 3 sort.Val) (Var 5 sort.List)) ∷ []) }) }) ∷ []) }) (record { is_void = true; name = name_f; params = (name_p ∷ []); vars = ((name_s, sort.Int) ∷ (name_t, sort.Int) ∷ (name_v, sort.Val) ∷ (name_w, sort.Val) ∷ (name_k, sort.List) ∷ (name_m, sort.List) ∷ []); pre = (record { opened = []; facts = ((Rel relation.Lt (Var 0 sort.Int) (Of2 binary.Add (Var 1 sort.Int) (Number (pos 1)))) ∷ []); locals = []; items = ((Data (Var 0 sort.Int) (Var 2 sort.Val) (Var 4 sort.List)) ∷ (Data (Var 1 sort.Int) (Var 3 sort.Val) (Var 5 sort.List)) ∷ []) }); post = (record { opened = []; facts = ([]); locals = []; items = ((Data (Var 0 sort.Int) (Var 2 sort.Val) (Var 4 sort.List)) ∷ (Data (Var 1 sort.Int) (Var 3 sort.Val) (Var 5 sort.List)) ∷ []) }) }) (record { temps = (name_p ∷ []); body = (c.Then (c.Return None) c.End) }) (s.Then 1 (s.Have (Rel relation.Eq (Named name_v) (Named name_w)) ([])) s.NoBlock (s.Then 2 (s.Return ([]) ([]) ([])) s.NoBlock s.End)) ≡ (RefusedAt 1 25 3)
unfolding computing
conditions_667 = refl

conditions_668 : body_verdict (record { predicates = ([]); specs = ((record { is_void = true; name = name_f; params = (name_p ∷ []); vars = ((name_s, sort.Int) ∷ (name_t, sort.Int) ∷ (name_v, sort.Val) ∷ (name_w, sort.Val) ∷ (name_k, sort.List) ∷ (name_m, sort.List) ∷ []); pre = (record { opened = []; facts = ((Rel relation.Lt (Var 0 sort.Int) (Of2 binary.Add (Var 1 sort.Int) (Number (pos 1)))) ∷ []); locals = []; items = ((Data (Var 0 sort.Int) (Var 2 sort.Val) (Var 4 sort.List)) ∷ (Data (Var 1 sort.Int) (Var 3 sort.Val) (Var 5 sort.List)) ∷ []) }); post = (record { opened = []; facts = ([]); locals = []; items = ((Data (Var 0 sort.Int) (Var 2 sort.Val) (Var 4 sort.List)) ∷ (Data (Var 1 sort.Int) (Var 3 sort.Val) (Var 5 sort.List)) ∷ []) }) }) ∷ []) }) (record { is_void = true; name = name_f; params = (name_p ∷ []); vars = ((name_s, sort.Int) ∷ (name_t, sort.Int) ∷ (name_v, sort.Val) ∷ (name_w, sort.Val) ∷ (name_k, sort.List) ∷ (name_m, sort.List) ∷ []); pre = (record { opened = []; facts = ((Rel relation.Lt (Var 0 sort.Int) (Of2 binary.Add (Var 1 sort.Int) (Number (pos 1)))) ∷ []); locals = []; items = ((Data (Var 0 sort.Int) (Var 2 sort.Val) (Var 4 sort.List)) ∷ (Data (Var 1 sort.Int) (Var 3 sort.Val) (Var 5 sort.List)) ∷ []) }); post = (record { opened = []; facts = ([]); locals = []; items = ((Data (Var 0 sort.Int) (Var 2 sort.Val) (Var 4 sort.List)) ∷ (Data (Var 1 sort.Int) (Var 3 sort.Val) (Var 5 sort.List)) ∷ []) }) }) (record { temps = (name_p ∷ []); body = (c.Then (c.Return None) c.End) }) (s.Then 1 (s.Have (Rel relation.Ne (Named name_v) (Named name_w)) ([])) s.NoBlock (s.Then 2 (s.Return ([]) ([]) ([])) s.NoBlock s.End)) ≡ (RefusedAt 1 25 3)
unfolding computing
conditions_668 = refl

conditions_669 : body_verdict (record { predicates = ((record { name = name_A; args = (sort.Int ∷ []); cases = ((record { opened = []; facts = ([]); locals = []; items = ([]) }) ∷ []) }) ∷ []); specs = ((record { is_void = true; name = name_f; params = (name_p ∷ []); vars = ((name_s, sort.Int) ∷ (name_t, sort.Int) ∷ (name_v, sort.Val) ∷ (name_w, sort.Val) ∷ (name_k, sort.List) ∷ (name_m, sort.List) ∷ []); pre = (record { opened = []; facts = ([]); locals = []; items = ((Lock (Var 0 sort.Int) (Var 2 sort.Val) (record { name = name_A; args = ((Number (pos 1)) ∷ []) })) ∷ []) }); post = (record { opened = []; facts = ([]); locals = []; items = ((Lock (Var 1 sort.Int) (Var 2 sort.Val) (record { name = name_A; args = ((Number (pos 1)) ∷ []) })) ∷ (Lock (Of2 binary.Sub (Var 0 sort.Int) (Var 1 sort.Int)) (Var 2 sort.Val) (record { name = name_A; args = ((Number (pos 1)) ∷ []) })) ∷ []) }) }) ∷ []) }) (record { is_void = true; name = name_f; params = (name_p ∷ []); vars = ((name_s, sort.Int) ∷ (name_t, sort.Int) ∷ (name_v, sort.Val) ∷ (name_w, sort.Val) ∷ (name_k, sort.List) ∷ (name_m, sort.List) ∷ []); pre = (record { opened = []; facts = ([]); locals = []; items = ((Lock (Var 0 sort.Int) (Var 2 sort.Val) (record { name = name_A; args = ((Number (pos 1)) ∷ []) })) ∷ []) }); post = (record { opened = []; facts = ([]); locals = []; items = ((Lock (Var 1 sort.Int) (Var 2 sort.Val) (record { name = name_A; args = ((Number (pos 1)) ∷ []) })) ∷ (Lock (Of2 binary.Sub (Var 0 sort.Int) (Var 1 sort.Int)) (Var 2 sort.Val) (record { name = name_A; args = ((Number (pos 1)) ∷ []) })) ∷ []) }) }) (record { temps = (name_p ∷ []); body = (c.Then (c.Return None) c.End) }) (s.Then 1 (s.Share 0 (Named name_t) ([])) s.NoBlock (s.Then 2 (s.Return ([]) ([]) ([])) s.NoBlock s.End)) ≡ (RefusedAt 1 31 3)
unfolding computing
conditions_669 = refl

conditions_670 : body_verdict (record { predicates = ((record { name = name_A; args = (sort.Int ∷ []); cases = ((record { opened = []; facts = ([]); locals = []; items = ([]) }) ∷ []) }) ∷ []); specs = ((record { is_void = true; name = name_f; params = (name_p ∷ []); vars = ((name_s, sort.Int) ∷ (name_t, sort.Int) ∷ (name_v, sort.Val) ∷ (name_w, sort.Val) ∷ (name_k, sort.List) ∷ (name_m, sort.List) ∷ []); pre = (record { opened = []; facts = ((Rel relation.Le (Number (pos 1)) (Var 1 sort.Int)) ∷ (Rel relation.Le (Of2 binary.Add (Var 1 sort.Int) (Number (pos 1))) (Var 0 sort.Int)) ∷ (Rel relation.Le (Of2 binary.Add (Var 0 sort.Int) (Var 1 sort.Int)) (Number (pos 64))) ∷ (Rel relation.Le (Number (pos 1)) (Of unary.Len (Var 4 sort.List))) ∷ []); locals = []; items = ((Lock (Var 0 sort.Int) (Var 2 sort.Val) (record { name = name_A; args = ((Number (pos 1)) ∷ []) })) ∷ []) }); post = (record { opened = []; facts = ([]); locals = []; items = ((Lock (Var 1 sort.Int) (Var 2 sort.Val) (record { name = name_A; args = ((Number (pos 1)) ∷ []) })) ∷ (Lock (Of2 binary.Sub (Var 0 sort.Int) (Var 1 sort.Int)) (Var 2 sort.Val) (record { name = name_A; args = ((Number (pos 1)) ∷ []) })) ∷ []) }) }) ∷ []) }) (record { is_void = true; name = name_f; params = (name_p ∷ []); vars = ((name_s, sort.Int) ∷ (name_t, sort.Int) ∷ (name_v, sort.Val) ∷ (name_w, sort.Val) ∷ (name_k, sort.List) ∷ (name_m, sort.List) ∷ []); pre = (record { opened = []; facts = ((Rel relation.Le (Number (pos 1)) (Var 1 sort.Int)) ∷ (Rel relation.Le (Of2 binary.Add (Var 1 sort.Int) (Number (pos 1))) (Var 0 sort.Int)) ∷ (Rel relation.Le (Of2 binary.Add (Var 0 sort.Int) (Var 1 sort.Int)) (Number (pos 64))) ∷ (Rel relation.Le (Number (pos 1)) (Of unary.Len (Var 4 sort.List))) ∷ []); locals = []; items = ((Lock (Var 0 sort.Int) (Var 2 sort.Val) (record { name = name_A; args = ((Number (pos 1)) ∷ []) })) ∷ []) }); post = (record { opened = []; facts = ([]); locals = []; items = ((Lock (Var 1 sort.Int) (Var 2 sort.Val) (record { name = name_A; args = ((Number (pos 1)) ∷ []) })) ∷ (Lock (Of2 binary.Sub (Var 0 sort.Int) (Var 1 sort.Int)) (Var 2 sort.Val) (record { name = name_A; args = ((Number (pos 1)) ∷ []) })) ∷ []) }) }) (record { temps = (name_p ∷ []); body = (c.Then (c.Return None) c.End) }) (s.Then 1 (s.Share 0 (Named name_t) ([])) s.NoBlock (s.Then 2 (s.Return ([]) ([]) ([])) s.NoBlock s.End)) ≡ Accepted
unfolding computing
conditions_670 = refl

conditions_671 : body_verdict (record { predicates = ((record { name = name_A; args = (sort.Int ∷ []); cases = ((record { opened = []; facts = ([]); locals = []; items = ([]) }) ∷ []) }) ∷ []); specs = ((record { is_void = true; name = name_f; params = (name_p ∷ []); vars = ((name_s, sort.Int) ∷ (name_t, sort.Int) ∷ (name_v, sort.Val) ∷ (name_w, sort.Val) ∷ (name_k, sort.List) ∷ (name_m, sort.List) ∷ []); pre = (record { opened = []; facts = ((Rel relation.Le (Number (pos 1)) (Var 1 sort.Int)) ∷ (Rel relation.Le (Of2 binary.Add (Var 1 sort.Int) (Number (pos 1))) (Var 0 sort.Int)) ∷ (Rel relation.Le (Of2 binary.Add (Var 0 sort.Int) (Var 1 sort.Int)) (Number (pos 65))) ∷ (Rel relation.Le (Number (pos 1)) (Of unary.Len (Var 4 sort.List))) ∷ []); locals = []; items = ((Lock (Var 0 sort.Int) (Var 2 sort.Val) (record { name = name_A; args = ((Number (pos 1)) ∷ []) })) ∷ []) }); post = (record { opened = []; facts = ([]); locals = []; items = ((Lock (Var 1 sort.Int) (Var 2 sort.Val) (record { name = name_A; args = ((Number (pos 1)) ∷ []) })) ∷ (Lock (Of2 binary.Sub (Var 0 sort.Int) (Var 1 sort.Int)) (Var 2 sort.Val) (record { name = name_A; args = ((Number (pos 1)) ∷ []) })) ∷ []) }) }) ∷ []) }) (record { is_void = true; name = name_f; params = (name_p ∷ []); vars = ((name_s, sort.Int) ∷ (name_t, sort.Int) ∷ (name_v, sort.Val) ∷ (name_w, sort.Val) ∷ (name_k, sort.List) ∷ (name_m, sort.List) ∷ []); pre = (record { opened = []; facts = ((Rel relation.Le (Number (pos 1)) (Var 1 sort.Int)) ∷ (Rel relation.Le (Of2 binary.Add (Var 1 sort.Int) (Number (pos 1))) (Var 0 sort.Int)) ∷ (Rel relation.Le (Of2 binary.Add (Var 0 sort.Int) (Var 1 sort.Int)) (Number (pos 65))) ∷ (Rel relation.Le (Number (pos 1)) (Of unary.Len (Var 4 sort.List))) ∷ []); locals = []; items = ((Lock (Var 0 sort.Int) (Var 2 sort.Val) (record { name = name_A; args = ((Number (pos 1)) ∷ []) })) ∷ []) }); post = (record { opened = []; facts = ([]); locals = []; items = ((Lock (Var 1 sort.Int) (Var 2 sort.Val) (record { name = name_A; args = ((Number (pos 1)) ∷ []) })) ∷ (Lock (Of2 binary.Sub (Var 0 sort.Int) (Var 1 sort.Int)) (Var 2 sort.Val) (record { name = name_A; args = ((Number (pos 1)) ∷ []) })) ∷ []) }) }) (record { temps = (name_p ∷ []); body = (c.Then (c.Return None) c.End) }) (s.Then 1 (s.Share 0 (Named name_t) ([])) s.NoBlock (s.Then 2 (s.Return ([]) ([]) ([])) s.NoBlock s.End)) ≡ Accepted
unfolding computing
conditions_671 = refl

conditions_672 : body_verdict (record { predicates = ((record { name = name_A; args = (sort.Int ∷ []); cases = ((record { opened = []; facts = ([]); locals = []; items = ([]) }) ∷ []) }) ∷ []); specs = ((record { is_void = true; name = name_f; params = (name_p ∷ []); vars = ((name_s, sort.Int) ∷ (name_t, sort.Int) ∷ (name_v, sort.Val) ∷ (name_w, sort.Val) ∷ (name_k, sort.List) ∷ (name_m, sort.List) ∷ []); pre = (record { opened = []; facts = ([]); locals = []; items = ((Lock (Var 0 sort.Int) (Var 2 sort.Val) (record { name = name_A; args = ((Number (pos 1)) ∷ []) })) ∷ (Lock (Var 1 sort.Int) (Var 2 sort.Val) (record { name = name_A; args = ((Number (pos 1)) ∷ []) })) ∷ []) }); post = (record { opened = []; facts = ([]); locals = []; items = ((Lock (Of2 binary.Add (Var 0 sort.Int) (Var 1 sort.Int)) (Var 2 sort.Val) (record { name = name_A; args = ((Number (pos 1)) ∷ []) })) ∷ []) }) }) ∷ []) }) (record { is_void = true; name = name_f; params = (name_p ∷ []); vars = ((name_s, sort.Int) ∷ (name_t, sort.Int) ∷ (name_v, sort.Val) ∷ (name_w, sort.Val) ∷ (name_k, sort.List) ∷ (name_m, sort.List) ∷ []); pre = (record { opened = []; facts = ([]); locals = []; items = ((Lock (Var 0 sort.Int) (Var 2 sort.Val) (record { name = name_A; args = ((Number (pos 1)) ∷ []) })) ∷ (Lock (Var 1 sort.Int) (Var 2 sort.Val) (record { name = name_A; args = ((Number (pos 1)) ∷ []) })) ∷ []) }); post = (record { opened = []; facts = ([]); locals = []; items = ((Lock (Of2 binary.Add (Var 0 sort.Int) (Var 1 sort.Int)) (Var 2 sort.Val) (record { name = name_A; args = ((Number (pos 1)) ∷ []) })) ∷ []) }) }) (record { temps = (name_p ∷ []); body = (c.Then (c.Return None) c.End) }) (s.Then 1 (s.Unshare 0 1 ([])) s.NoBlock (s.Then 2 (s.Return ([]) ([]) ([])) s.NoBlock s.End)) ≡ (RefusedAt 1 32 3)
unfolding computing
conditions_672 = refl

conditions_673 : body_verdict (record { predicates = ((record { name = name_A; args = (sort.Int ∷ []); cases = ((record { opened = []; facts = ([]); locals = []; items = ([]) }) ∷ []) }) ∷ []); specs = ((record { is_void = true; name = name_f; params = (name_p ∷ []); vars = ((name_s, sort.Int) ∷ (name_t, sort.Int) ∷ (name_v, sort.Val) ∷ (name_w, sort.Val) ∷ (name_k, sort.List) ∷ (name_m, sort.List) ∷ []); pre = (record { opened = []; facts = ((Rel relation.Le (Number (pos 1)) (Var 1 sort.Int)) ∷ (Rel relation.Le (Of2 binary.Add (Var 1 sort.Int) (Number (pos 1))) (Var 0 sort.Int)) ∷ (Rel relation.Le (Of2 binary.Add (Var 0 sort.Int) (Var 1 sort.Int)) (Number (pos 64))) ∷ (Rel relation.Le (Number (pos 1)) (Of unary.Len (Var 4 sort.List))) ∷ []); locals = []; items = ((Lock (Var 0 sort.Int) (Var 2 sort.Val) (record { name = name_A; args = ((Number (pos 1)) ∷ []) })) ∷ (Lock (Var 1 sort.Int) (Var 2 sort.Val) (record { name = name_A; args = ((Number (pos 1)) ∷ []) })) ∷ []) }); post = (record { opened = []; facts = ([]); locals = []; items = ((Lock (Of2 binary.Add (Var 0 sort.Int) (Var 1 sort.Int)) (Var 2 sort.Val) (record { name = name_A; args = ((Number (pos 1)) ∷ []) })) ∷ []) }) }) ∷ []) }) (record { is_void = true; name = name_f; params = (name_p ∷ []); vars = ((name_s, sort.Int) ∷ (name_t, sort.Int) ∷ (name_v, sort.Val) ∷ (name_w, sort.Val) ∷ (name_k, sort.List) ∷ (name_m, sort.List) ∷ []); pre = (record { opened = []; facts = ((Rel relation.Le (Number (pos 1)) (Var 1 sort.Int)) ∷ (Rel relation.Le (Of2 binary.Add (Var 1 sort.Int) (Number (pos 1))) (Var 0 sort.Int)) ∷ (Rel relation.Le (Of2 binary.Add (Var 0 sort.Int) (Var 1 sort.Int)) (Number (pos 64))) ∷ (Rel relation.Le (Number (pos 1)) (Of unary.Len (Var 4 sort.List))) ∷ []); locals = []; items = ((Lock (Var 0 sort.Int) (Var 2 sort.Val) (record { name = name_A; args = ((Number (pos 1)) ∷ []) })) ∷ (Lock (Var 1 sort.Int) (Var 2 sort.Val) (record { name = name_A; args = ((Number (pos 1)) ∷ []) })) ∷ []) }); post = (record { opened = []; facts = ([]); locals = []; items = ((Lock (Of2 binary.Add (Var 0 sort.Int) (Var 1 sort.Int)) (Var 2 sort.Val) (record { name = name_A; args = ((Number (pos 1)) ∷ []) })) ∷ []) }) }) (record { temps = (name_p ∷ []); body = (c.Then (c.Return None) c.End) }) (s.Then 1 (s.Unshare 0 1 ([])) s.NoBlock (s.Then 2 (s.Return ([]) ([]) ([])) s.NoBlock s.End)) ≡ Accepted
unfolding computing
conditions_673 = refl

conditions_674 : body_verdict (record { predicates = ((record { name = name_A; args = (sort.Int ∷ []); cases = ((record { opened = []; facts = ([]); locals = []; items = ([]) }) ∷ []) }) ∷ []); specs = ((record { is_void = true; name = name_f; params = (name_p ∷ []); vars = ((name_s, sort.Int) ∷ (name_t, sort.Int) ∷ (name_v, sort.Val) ∷ (name_w, sort.Val) ∷ (name_k, sort.List) ∷ (name_m, sort.List) ∷ []); pre = (record { opened = []; facts = ((Rel relation.Le (Number (pos 1)) (Var 1 sort.Int)) ∷ (Rel relation.Le (Of2 binary.Add (Var 1 sort.Int) (Number (pos 1))) (Var 0 sort.Int)) ∷ (Rel relation.Le (Of2 binary.Add (Var 0 sort.Int) (Var 1 sort.Int)) (Number (pos 65))) ∷ (Rel relation.Le (Number (pos 1)) (Of unary.Len (Var 4 sort.List))) ∷ []); locals = []; items = ((Lock (Var 0 sort.Int) (Var 2 sort.Val) (record { name = name_A; args = ((Number (pos 1)) ∷ []) })) ∷ (Lock (Var 1 sort.Int) (Var 2 sort.Val) (record { name = name_A; args = ((Number (pos 1)) ∷ []) })) ∷ []) }); post = (record { opened = []; facts = ([]); locals = []; items = ((Lock (Of2 binary.Add (Var 0 sort.Int) (Var 1 sort.Int)) (Var 2 sort.Val) (record { name = name_A; args = ((Number (pos 1)) ∷ []) })) ∷ []) }) }) ∷ []) }) (record { is_void = true; name = name_f; params = (name_p ∷ []); vars = ((name_s, sort.Int) ∷ (name_t, sort.Int) ∷ (name_v, sort.Val) ∷ (name_w, sort.Val) ∷ (name_k, sort.List) ∷ (name_m, sort.List) ∷ []); pre = (record { opened = []; facts = ((Rel relation.Le (Number (pos 1)) (Var 1 sort.Int)) ∷ (Rel relation.Le (Of2 binary.Add (Var 1 sort.Int) (Number (pos 1))) (Var 0 sort.Int)) ∷ (Rel relation.Le (Of2 binary.Add (Var 0 sort.Int) (Var 1 sort.Int)) (Number (pos 65))) ∷ (Rel relation.Le (Number (pos 1)) (Of unary.Len (Var 4 sort.List))) ∷ []); locals = []; items = ((Lock (Var 0 sort.Int) (Var 2 sort.Val) (record { name = name_A; args = ((Number (pos 1)) ∷ []) })) ∷ (Lock (Var 1 sort.Int) (Var 2 sort.Val) (record { name = name_A; args = ((Number (pos 1)) ∷ []) })) ∷ []) }); post = (record { opened = []; facts = ([]); locals = []; items = ((Lock (Of2 binary.Add (Var 0 sort.Int) (Var 1 sort.Int)) (Var 2 sort.Val) (record { name = name_A; args = ((Number (pos 1)) ∷ []) })) ∷ []) }) }) (record { temps = (name_p ∷ []); body = (c.Then (c.Return None) c.End) }) (s.Then 1 (s.Unshare 0 1 ([])) s.NoBlock (s.Then 2 (s.Return ([]) ([]) ([])) s.NoBlock s.End)) ≡ (RefusedAt 1 32 3)
unfolding computing
conditions_674 = refl

conditions_675 : body_verdict (record { predicates = ((record { name = name_A; args = (sort.Int ∷ []); cases = ((record { opened = []; facts = ([]); locals = []; items = ([]) }) ∷ []) }) ∷ []); specs = ((record { is_void = true; name = name_f; params = (name_p ∷ []); vars = ((name_s, sort.Int) ∷ (name_t, sort.Int) ∷ (name_v, sort.Val) ∷ (name_w, sort.Val) ∷ (name_k, sort.List) ∷ (name_m, sort.List) ∷ []); pre = (record { opened = []; facts = ([]); locals = []; items = ((Lock (Var 0 sort.Int) (Var 2 sort.Val) (record { name = name_A; args = ((Number (pos 1)) ∷ []) })) ∷ (Lock (Var 1 sort.Int) (Var 3 sort.Val) (record { name = name_A; args = ((Number (pos 1)) ∷ []) })) ∷ []) }); post = (record { opened = []; facts = ([]); locals = []; items = ((Lock (Of2 binary.Add (Var 0 sort.Int) (Var 1 sort.Int)) (Var 2 sort.Val) (record { name = name_A; args = ((Number (pos 1)) ∷ []) })) ∷ []) }) }) ∷ []) }) (record { is_void = true; name = name_f; params = (name_p ∷ []); vars = ((name_s, sort.Int) ∷ (name_t, sort.Int) ∷ (name_v, sort.Val) ∷ (name_w, sort.Val) ∷ (name_k, sort.List) ∷ (name_m, sort.List) ∷ []); pre = (record { opened = []; facts = ([]); locals = []; items = ((Lock (Var 0 sort.Int) (Var 2 sort.Val) (record { name = name_A; args = ((Number (pos 1)) ∷ []) })) ∷ (Lock (Var 1 sort.Int) (Var 3 sort.Val) (record { name = name_A; args = ((Number (pos 1)) ∷ []) })) ∷ []) }); post = (record { opened = []; facts = ([]); locals = []; items = ((Lock (Of2 binary.Add (Var 0 sort.Int) (Var 1 sort.Int)) (Var 2 sort.Val) (record { name = name_A; args = ((Number (pos 1)) ∷ []) })) ∷ []) }) }) (record { temps = (name_p ∷ []); body = (c.Then (c.Return None) c.End) }) (s.Then 1 (s.Unshare 0 1 ([])) s.NoBlock (s.Then 2 (s.Return ([]) ([]) ([])) s.NoBlock s.End)) ≡ (RefusedAt 1 32 1)
unfolding computing
conditions_675 = refl

conditions_676 : body_verdict (record { predicates = ((record { name = name_A; args = (sort.Int ∷ []); cases = ((record { opened = []; facts = ([]); locals = []; items = ([]) }) ∷ []) }) ∷ []); specs = ((record { is_void = true; name = name_f; params = (name_p ∷ []); vars = ((name_s, sort.Int) ∷ (name_t, sort.Int) ∷ (name_v, sort.Val) ∷ (name_w, sort.Val) ∷ (name_k, sort.List) ∷ (name_m, sort.List) ∷ []); pre = (record { opened = []; facts = ((Rel relation.Le (Number (pos 1)) (Var 1 sort.Int)) ∷ (Rel relation.Le (Of2 binary.Add (Var 1 sort.Int) (Number (pos 1))) (Var 0 sort.Int)) ∷ (Rel relation.Le (Of2 binary.Add (Var 0 sort.Int) (Var 1 sort.Int)) (Number (pos 64))) ∷ (Rel relation.Le (Number (pos 1)) (Of unary.Len (Var 4 sort.List))) ∷ []); locals = []; items = ((Lock (Var 0 sort.Int) (Var 2 sort.Val) (record { name = name_A; args = ((Number (pos 1)) ∷ []) })) ∷ (Lock (Var 1 sort.Int) (Var 3 sort.Val) (record { name = name_A; args = ((Number (pos 1)) ∷ []) })) ∷ []) }); post = (record { opened = []; facts = ([]); locals = []; items = ((Lock (Of2 binary.Add (Var 0 sort.Int) (Var 1 sort.Int)) (Var 2 sort.Val) (record { name = name_A; args = ((Number (pos 1)) ∷ []) })) ∷ []) }) }) ∷ []) }) (record { is_void = true; name = name_f; params = (name_p ∷ []); vars = ((name_s, sort.Int) ∷ (name_t, sort.Int) ∷ (name_v, sort.Val) ∷ (name_w, sort.Val) ∷ (name_k, sort.List) ∷ (name_m, sort.List) ∷ []); pre = (record { opened = []; facts = ((Rel relation.Le (Number (pos 1)) (Var 1 sort.Int)) ∷ (Rel relation.Le (Of2 binary.Add (Var 1 sort.Int) (Number (pos 1))) (Var 0 sort.Int)) ∷ (Rel relation.Le (Of2 binary.Add (Var 0 sort.Int) (Var 1 sort.Int)) (Number (pos 64))) ∷ (Rel relation.Le (Number (pos 1)) (Of unary.Len (Var 4 sort.List))) ∷ []); locals = []; items = ((Lock (Var 0 sort.Int) (Var 2 sort.Val) (record { name = name_A; args = ((Number (pos 1)) ∷ []) })) ∷ (Lock (Var 1 sort.Int) (Var 3 sort.Val) (record { name = name_A; args = ((Number (pos 1)) ∷ []) })) ∷ []) }); post = (record { opened = []; facts = ([]); locals = []; items = ((Lock (Of2 binary.Add (Var 0 sort.Int) (Var 1 sort.Int)) (Var 2 sort.Val) (record { name = name_A; args = ((Number (pos 1)) ∷ []) })) ∷ []) }) }) (record { temps = (name_p ∷ []); body = (c.Then (c.Return None) c.End) }) (s.Then 1 (s.Unshare 0 1 ([])) s.NoBlock (s.Then 2 (s.Return ([]) ([]) ([])) s.NoBlock s.End)) ≡ (RefusedAt 1 32 1)
unfolding computing
conditions_676 = refl

conditions_677 : body_verdict (record { predicates = ((record { name = name_A; args = (sort.Int ∷ []); cases = ((record { opened = []; facts = ([]); locals = []; items = ([]) }) ∷ []) }) ∷ []); specs = ((record { is_void = true; name = name_f; params = (name_p ∷ []); vars = ((name_s, sort.Int) ∷ (name_t, sort.Int) ∷ (name_v, sort.Val) ∷ (name_w, sort.Val) ∷ (name_k, sort.List) ∷ (name_m, sort.List) ∷ []); pre = (record { opened = []; facts = ((Rel relation.Le (Number (pos 1)) (Var 1 sort.Int)) ∷ (Rel relation.Le (Of2 binary.Add (Var 1 sort.Int) (Number (pos 1))) (Var 0 sort.Int)) ∷ (Rel relation.Le (Of2 binary.Add (Var 0 sort.Int) (Var 1 sort.Int)) (Number (pos 65))) ∷ (Rel relation.Le (Number (pos 1)) (Of unary.Len (Var 4 sort.List))) ∷ []); locals = []; items = ((Lock (Var 0 sort.Int) (Var 2 sort.Val) (record { name = name_A; args = ((Number (pos 1)) ∷ []) })) ∷ (Lock (Var 1 sort.Int) (Var 3 sort.Val) (record { name = name_A; args = ((Number (pos 1)) ∷ []) })) ∷ []) }); post = (record { opened = []; facts = ([]); locals = []; items = ((Lock (Of2 binary.Add (Var 0 sort.Int) (Var 1 sort.Int)) (Var 2 sort.Val) (record { name = name_A; args = ((Number (pos 1)) ∷ []) })) ∷ []) }) }) ∷ []) }) (record { is_void = true; name = name_f; params = (name_p ∷ []); vars = ((name_s, sort.Int) ∷ (name_t, sort.Int) ∷ (name_v, sort.Val) ∷ (name_w, sort.Val) ∷ (name_k, sort.List) ∷ (name_m, sort.List) ∷ []); pre = (record { opened = []; facts = ((Rel relation.Le (Number (pos 1)) (Var 1 sort.Int)) ∷ (Rel relation.Le (Of2 binary.Add (Var 1 sort.Int) (Number (pos 1))) (Var 0 sort.Int)) ∷ (Rel relation.Le (Of2 binary.Add (Var 0 sort.Int) (Var 1 sort.Int)) (Number (pos 65))) ∷ (Rel relation.Le (Number (pos 1)) (Of unary.Len (Var 4 sort.List))) ∷ []); locals = []; items = ((Lock (Var 0 sort.Int) (Var 2 sort.Val) (record { name = name_A; args = ((Number (pos 1)) ∷ []) })) ∷ (Lock (Var 1 sort.Int) (Var 3 sort.Val) (record { name = name_A; args = ((Number (pos 1)) ∷ []) })) ∷ []) }); post = (record { opened = []; facts = ([]); locals = []; items = ((Lock (Of2 binary.Add (Var 0 sort.Int) (Var 1 sort.Int)) (Var 2 sort.Val) (record { name = name_A; args = ((Number (pos 1)) ∷ []) })) ∷ []) }) }) (record { temps = (name_p ∷ []); body = (c.Then (c.Return None) c.End) }) (s.Then 1 (s.Unshare 0 1 ([])) s.NoBlock (s.Then 2 (s.Return ([]) ([]) ([])) s.NoBlock s.End)) ≡ (RefusedAt 1 32 1)
unfolding computing
conditions_677 = refl

conditions_678 : body_verdict (record { predicates = ((record { name = name_A; args = (sort.Int ∷ []); cases = ((record { opened = []; facts = ([]); locals = []; items = ([]) }) ∷ []) }) ∷ []); specs = ((record { is_void = true; name = name_f; params = (name_p ∷ []); vars = ((name_s, sort.Int) ∷ (name_t, sort.Int) ∷ (name_v, sort.Val) ∷ (name_w, sort.Val) ∷ (name_k, sort.List) ∷ (name_m, sort.List) ∷ []); pre = (record { opened = []; facts = ([]); locals = []; items = ((Lock (Var 0 sort.Int) (Var 2 sort.Val) (record { name = name_A; args = ((Number (pos 1)) ∷ []) })) ∷ (Lock (Var 1 sort.Int) (Var 2 sort.Val) (record { name = name_A; args = ((Number (pos 2)) ∷ []) })) ∷ []) }); post = (record { opened = []; facts = ([]); locals = []; items = ((Lock (Of2 binary.Add (Var 0 sort.Int) (Var 1 sort.Int)) (Var 2 sort.Val) (record { name = name_A; args = ((Number (pos 1)) ∷ []) })) ∷ []) }) }) ∷ []) }) (record { is_void = true; name = name_f; params = (name_p ∷ []); vars = ((name_s, sort.Int) ∷ (name_t, sort.Int) ∷ (name_v, sort.Val) ∷ (name_w, sort.Val) ∷ (name_k, sort.List) ∷ (name_m, sort.List) ∷ []); pre = (record { opened = []; facts = ([]); locals = []; items = ((Lock (Var 0 sort.Int) (Var 2 sort.Val) (record { name = name_A; args = ((Number (pos 1)) ∷ []) })) ∷ (Lock (Var 1 sort.Int) (Var 2 sort.Val) (record { name = name_A; args = ((Number (pos 2)) ∷ []) })) ∷ []) }); post = (record { opened = []; facts = ([]); locals = []; items = ((Lock (Of2 binary.Add (Var 0 sort.Int) (Var 1 sort.Int)) (Var 2 sort.Val) (record { name = name_A; args = ((Number (pos 1)) ∷ []) })) ∷ []) }) }) (record { temps = (name_p ∷ []); body = (c.Then (c.Return None) c.End) }) (s.Then 1 (s.Unshare 0 1 ([])) s.NoBlock (s.Then 2 (s.Return ([]) ([]) ([])) s.NoBlock s.End)) ≡ (RefusedAt 1 32 1)
unfolding computing
conditions_678 = refl

conditions_679 : body_verdict (record { predicates = ((record { name = name_A; args = (sort.Int ∷ []); cases = ((record { opened = []; facts = ([]); locals = []; items = ([]) }) ∷ []) }) ∷ []); specs = ((record { is_void = true; name = name_f; params = (name_p ∷ []); vars = ((name_s, sort.Int) ∷ (name_t, sort.Int) ∷ (name_v, sort.Val) ∷ (name_w, sort.Val) ∷ (name_k, sort.List) ∷ (name_m, sort.List) ∷ []); pre = (record { opened = []; facts = ((Rel relation.Le (Number (pos 1)) (Var 1 sort.Int)) ∷ (Rel relation.Le (Of2 binary.Add (Var 1 sort.Int) (Number (pos 1))) (Var 0 sort.Int)) ∷ (Rel relation.Le (Of2 binary.Add (Var 0 sort.Int) (Var 1 sort.Int)) (Number (pos 64))) ∷ (Rel relation.Le (Number (pos 1)) (Of unary.Len (Var 4 sort.List))) ∷ []); locals = []; items = ((Lock (Var 0 sort.Int) (Var 2 sort.Val) (record { name = name_A; args = ((Number (pos 1)) ∷ []) })) ∷ (Lock (Var 1 sort.Int) (Var 2 sort.Val) (record { name = name_A; args = ((Number (pos 2)) ∷ []) })) ∷ []) }); post = (record { opened = []; facts = ([]); locals = []; items = ((Lock (Of2 binary.Add (Var 0 sort.Int) (Var 1 sort.Int)) (Var 2 sort.Val) (record { name = name_A; args = ((Number (pos 1)) ∷ []) })) ∷ []) }) }) ∷ []) }) (record { is_void = true; name = name_f; params = (name_p ∷ []); vars = ((name_s, sort.Int) ∷ (name_t, sort.Int) ∷ (name_v, sort.Val) ∷ (name_w, sort.Val) ∷ (name_k, sort.List) ∷ (name_m, sort.List) ∷ []); pre = (record { opened = []; facts = ((Rel relation.Le (Number (pos 1)) (Var 1 sort.Int)) ∷ (Rel relation.Le (Of2 binary.Add (Var 1 sort.Int) (Number (pos 1))) (Var 0 sort.Int)) ∷ (Rel relation.Le (Of2 binary.Add (Var 0 sort.Int) (Var 1 sort.Int)) (Number (pos 64))) ∷ (Rel relation.Le (Number (pos 1)) (Of unary.Len (Var 4 sort.List))) ∷ []); locals = []; items = ((Lock (Var 0 sort.Int) (Var 2 sort.Val) (record { name = name_A; args = ((Number (pos 1)) ∷ []) })) ∷ (Lock (Var 1 sort.Int) (Var 2 sort.Val) (record { name = name_A; args = ((Number (pos 2)) ∷ []) })) ∷ []) }); post = (record { opened = []; facts = ([]); locals = []; items = ((Lock (Of2 binary.Add (Var 0 sort.Int) (Var 1 sort.Int)) (Var 2 sort.Val) (record { name = name_A; args = ((Number (pos 1)) ∷ []) })) ∷ []) }) }) (record { temps = (name_p ∷ []); body = (c.Then (c.Return None) c.End) }) (s.Then 1 (s.Unshare 0 1 ([])) s.NoBlock (s.Then 2 (s.Return ([]) ([]) ([])) s.NoBlock s.End)) ≡ (RefusedAt 1 32 1)
unfolding computing
conditions_679 = refl

conditions_680 : body_verdict (record { predicates = ((record { name = name_A; args = (sort.Int ∷ []); cases = ((record { opened = []; facts = ([]); locals = []; items = ([]) }) ∷ []) }) ∷ []); specs = ((record { is_void = true; name = name_f; params = (name_p ∷ []); vars = ((name_s, sort.Int) ∷ (name_t, sort.Int) ∷ (name_v, sort.Val) ∷ (name_w, sort.Val) ∷ (name_k, sort.List) ∷ (name_m, sort.List) ∷ []); pre = (record { opened = []; facts = ((Rel relation.Le (Number (pos 1)) (Var 1 sort.Int)) ∷ (Rel relation.Le (Of2 binary.Add (Var 1 sort.Int) (Number (pos 1))) (Var 0 sort.Int)) ∷ (Rel relation.Le (Of2 binary.Add (Var 0 sort.Int) (Var 1 sort.Int)) (Number (pos 65))) ∷ (Rel relation.Le (Number (pos 1)) (Of unary.Len (Var 4 sort.List))) ∷ []); locals = []; items = ((Lock (Var 0 sort.Int) (Var 2 sort.Val) (record { name = name_A; args = ((Number (pos 1)) ∷ []) })) ∷ (Lock (Var 1 sort.Int) (Var 2 sort.Val) (record { name = name_A; args = ((Number (pos 2)) ∷ []) })) ∷ []) }); post = (record { opened = []; facts = ([]); locals = []; items = ((Lock (Of2 binary.Add (Var 0 sort.Int) (Var 1 sort.Int)) (Var 2 sort.Val) (record { name = name_A; args = ((Number (pos 1)) ∷ []) })) ∷ []) }) }) ∷ []) }) (record { is_void = true; name = name_f; params = (name_p ∷ []); vars = ((name_s, sort.Int) ∷ (name_t, sort.Int) ∷ (name_v, sort.Val) ∷ (name_w, sort.Val) ∷ (name_k, sort.List) ∷ (name_m, sort.List) ∷ []); pre = (record { opened = []; facts = ((Rel relation.Le (Number (pos 1)) (Var 1 sort.Int)) ∷ (Rel relation.Le (Of2 binary.Add (Var 1 sort.Int) (Number (pos 1))) (Var 0 sort.Int)) ∷ (Rel relation.Le (Of2 binary.Add (Var 0 sort.Int) (Var 1 sort.Int)) (Number (pos 65))) ∷ (Rel relation.Le (Number (pos 1)) (Of unary.Len (Var 4 sort.List))) ∷ []); locals = []; items = ((Lock (Var 0 sort.Int) (Var 2 sort.Val) (record { name = name_A; args = ((Number (pos 1)) ∷ []) })) ∷ (Lock (Var 1 sort.Int) (Var 2 sort.Val) (record { name = name_A; args = ((Number (pos 2)) ∷ []) })) ∷ []) }); post = (record { opened = []; facts = ([]); locals = []; items = ((Lock (Of2 binary.Add (Var 0 sort.Int) (Var 1 sort.Int)) (Var 2 sort.Val) (record { name = name_A; args = ((Number (pos 1)) ∷ []) })) ∷ []) }) }) (record { temps = (name_p ∷ []); body = (c.Then (c.Return None) c.End) }) (s.Then 1 (s.Unshare 0 1 ([])) s.NoBlock (s.Then 2 (s.Return ([]) ([]) ([])) s.NoBlock s.End)) ≡ (RefusedAt 1 32 1)
unfolding computing
conditions_680 = refl

conditions_681 : body_verdict (record { predicates = ((record { name = name_A; args = (sort.Int ∷ []); cases = ((record { opened = []; facts = ([]); locals = []; items = ([]) }) ∷ []) }) ∷ []); specs = ((record { is_void = true; name = name_f; params = (name_p ∷ []); vars = ((name_s, sort.Int) ∷ (name_t, sort.Int) ∷ (name_v, sort.Val) ∷ (name_w, sort.Val) ∷ (name_k, sort.List) ∷ (name_m, sort.List) ∷ []); pre = (record { opened = []; facts = ([]); locals = []; items = ((Lock (Var 0 sort.Int) (Var 2 sort.Val) (record { name = name_A; args = ((Number (pos 1)) ∷ []) })) ∷ (Data (Var 1 sort.Int) (Var 2 sort.Val) (Var 4 sort.List)) ∷ []) }); post = (record { opened = []; facts = ([]); locals = []; items = ((Lock (Of2 binary.Add (Var 0 sort.Int) (Var 1 sort.Int)) (Var 2 sort.Val) (record { name = name_A; args = ((Number (pos 1)) ∷ []) })) ∷ []) }) }) ∷ []) }) (record { is_void = true; name = name_f; params = (name_p ∷ []); vars = ((name_s, sort.Int) ∷ (name_t, sort.Int) ∷ (name_v, sort.Val) ∷ (name_w, sort.Val) ∷ (name_k, sort.List) ∷ (name_m, sort.List) ∷ []); pre = (record { opened = []; facts = ([]); locals = []; items = ((Lock (Var 0 sort.Int) (Var 2 sort.Val) (record { name = name_A; args = ((Number (pos 1)) ∷ []) })) ∷ (Data (Var 1 sort.Int) (Var 2 sort.Val) (Var 4 sort.List)) ∷ []) }); post = (record { opened = []; facts = ([]); locals = []; items = ((Lock (Of2 binary.Add (Var 0 sort.Int) (Var 1 sort.Int)) (Var 2 sort.Val) (record { name = name_A; args = ((Number (pos 1)) ∷ []) })) ∷ []) }) }) (record { temps = (name_p ∷ []); body = (c.Then (c.Return None) c.End) }) (s.Then 1 (s.Unshare 0 1 ([])) s.NoBlock (s.Then 2 (s.Return ([]) ([]) ([])) s.NoBlock s.End)) ≡ (RefusedAt 1 32 1)
unfolding computing
conditions_681 = refl

conditions_682 : body_verdict (record { predicates = ((record { name = name_A; args = (sort.Int ∷ []); cases = ((record { opened = []; facts = ([]); locals = []; items = ([]) }) ∷ []) }) ∷ []); specs = ((record { is_void = true; name = name_f; params = (name_p ∷ []); vars = ((name_s, sort.Int) ∷ (name_t, sort.Int) ∷ (name_v, sort.Val) ∷ (name_w, sort.Val) ∷ (name_k, sort.List) ∷ (name_m, sort.List) ∷ []); pre = (record { opened = []; facts = ((Rel relation.Le (Number (pos 1)) (Var 1 sort.Int)) ∷ (Rel relation.Le (Of2 binary.Add (Var 1 sort.Int) (Number (pos 1))) (Var 0 sort.Int)) ∷ (Rel relation.Le (Of2 binary.Add (Var 0 sort.Int) (Var 1 sort.Int)) (Number (pos 64))) ∷ (Rel relation.Le (Number (pos 1)) (Of unary.Len (Var 4 sort.List))) ∷ []); locals = []; items = ((Lock (Var 0 sort.Int) (Var 2 sort.Val) (record { name = name_A; args = ((Number (pos 1)) ∷ []) })) ∷ (Data (Var 1 sort.Int) (Var 2 sort.Val) (Var 4 sort.List)) ∷ []) }); post = (record { opened = []; facts = ([]); locals = []; items = ((Lock (Of2 binary.Add (Var 0 sort.Int) (Var 1 sort.Int)) (Var 2 sort.Val) (record { name = name_A; args = ((Number (pos 1)) ∷ []) })) ∷ []) }) }) ∷ []) }) (record { is_void = true; name = name_f; params = (name_p ∷ []); vars = ((name_s, sort.Int) ∷ (name_t, sort.Int) ∷ (name_v, sort.Val) ∷ (name_w, sort.Val) ∷ (name_k, sort.List) ∷ (name_m, sort.List) ∷ []); pre = (record { opened = []; facts = ((Rel relation.Le (Number (pos 1)) (Var 1 sort.Int)) ∷ (Rel relation.Le (Of2 binary.Add (Var 1 sort.Int) (Number (pos 1))) (Var 0 sort.Int)) ∷ (Rel relation.Le (Of2 binary.Add (Var 0 sort.Int) (Var 1 sort.Int)) (Number (pos 64))) ∷ (Rel relation.Le (Number (pos 1)) (Of unary.Len (Var 4 sort.List))) ∷ []); locals = []; items = ((Lock (Var 0 sort.Int) (Var 2 sort.Val) (record { name = name_A; args = ((Number (pos 1)) ∷ []) })) ∷ (Data (Var 1 sort.Int) (Var 2 sort.Val) (Var 4 sort.List)) ∷ []) }); post = (record { opened = []; facts = ([]); locals = []; items = ((Lock (Of2 binary.Add (Var 0 sort.Int) (Var 1 sort.Int)) (Var 2 sort.Val) (record { name = name_A; args = ((Number (pos 1)) ∷ []) })) ∷ []) }) }) (record { temps = (name_p ∷ []); body = (c.Then (c.Return None) c.End) }) (s.Then 1 (s.Unshare 0 1 ([])) s.NoBlock (s.Then 2 (s.Return ([]) ([]) ([])) s.NoBlock s.End)) ≡ (RefusedAt 1 32 1)
unfolding computing
conditions_682 = refl

conditions_683 : body_verdict (record { predicates = ((record { name = name_A; args = (sort.Int ∷ []); cases = ((record { opened = []; facts = ([]); locals = []; items = ([]) }) ∷ []) }) ∷ []); specs = ((record { is_void = true; name = name_f; params = (name_p ∷ []); vars = ((name_s, sort.Int) ∷ (name_t, sort.Int) ∷ (name_v, sort.Val) ∷ (name_w, sort.Val) ∷ (name_k, sort.List) ∷ (name_m, sort.List) ∷ []); pre = (record { opened = []; facts = ((Rel relation.Le (Number (pos 1)) (Var 1 sort.Int)) ∷ (Rel relation.Le (Of2 binary.Add (Var 1 sort.Int) (Number (pos 1))) (Var 0 sort.Int)) ∷ (Rel relation.Le (Of2 binary.Add (Var 0 sort.Int) (Var 1 sort.Int)) (Number (pos 65))) ∷ (Rel relation.Le (Number (pos 1)) (Of unary.Len (Var 4 sort.List))) ∷ []); locals = []; items = ((Lock (Var 0 sort.Int) (Var 2 sort.Val) (record { name = name_A; args = ((Number (pos 1)) ∷ []) })) ∷ (Data (Var 1 sort.Int) (Var 2 sort.Val) (Var 4 sort.List)) ∷ []) }); post = (record { opened = []; facts = ([]); locals = []; items = ((Lock (Of2 binary.Add (Var 0 sort.Int) (Var 1 sort.Int)) (Var 2 sort.Val) (record { name = name_A; args = ((Number (pos 1)) ∷ []) })) ∷ []) }) }) ∷ []) }) (record { is_void = true; name = name_f; params = (name_p ∷ []); vars = ((name_s, sort.Int) ∷ (name_t, sort.Int) ∷ (name_v, sort.Val) ∷ (name_w, sort.Val) ∷ (name_k, sort.List) ∷ (name_m, sort.List) ∷ []); pre = (record { opened = []; facts = ((Rel relation.Le (Number (pos 1)) (Var 1 sort.Int)) ∷ (Rel relation.Le (Of2 binary.Add (Var 1 sort.Int) (Number (pos 1))) (Var 0 sort.Int)) ∷ (Rel relation.Le (Of2 binary.Add (Var 0 sort.Int) (Var 1 sort.Int)) (Number (pos 65))) ∷ (Rel relation.Le (Number (pos 1)) (Of unary.Len (Var 4 sort.List))) ∷ []); locals = []; items = ((Lock (Var 0 sort.Int) (Var 2 sort.Val) (record { name = name_A; args = ((Number (pos 1)) ∷ []) })) ∷ (Data (Var 1 sort.Int) (Var 2 sort.Val) (Var 4 sort.List)) ∷ []) }); post = (record { opened = []; facts = ([]); locals = []; items = ((Lock (Of2 binary.Add (Var 0 sort.Int) (Var 1 sort.Int)) (Var 2 sort.Val) (record { name = name_A; args = ((Number (pos 1)) ∷ []) })) ∷ []) }) }) (record { temps = (name_p ∷ []); body = (c.Then (c.Return None) c.End) }) (s.Then 1 (s.Unshare 0 1 ([])) s.NoBlock (s.Then 2 (s.Return ([]) ([]) ([])) s.NoBlock s.End)) ≡ (RefusedAt 1 32 1)
unfolding computing
conditions_683 = refl

conditions_684 : body_verdict (record { predicates = ((record { name = name_A; args = (sort.Int ∷ []); cases = ((record { opened = []; facts = ([]); locals = []; items = ([]) }) ∷ []) }) ∷ []); specs = ((record { is_void = true; name = name_f; params = (name_p ∷ []); vars = ((name_s, sort.Int) ∷ (name_t, sort.Int) ∷ (name_v, sort.Val) ∷ (name_w, sort.Val) ∷ (name_k, sort.List) ∷ (name_m, sort.List) ∷ []); pre = (record { opened = []; facts = ([]); locals = []; items = ((Data (Var 0 sort.Int) (Var 2 sort.Val) (Var 4 sort.List)) ∷ (Data (Var 1 sort.Int) (Var 2 sort.Val) (Var 5 sort.List)) ∷ []) }); post = (record { opened = []; facts = ([]); locals = []; items = ((Data (Of2 binary.Add (Var 0 sort.Int) (Var 1 sort.Int)) (Var 2 sort.Val) (Var 4 sort.List)) ∷ []) }) }) ∷ []) }) (record { is_void = true; name = name_f; params = (name_p ∷ []); vars = ((name_s, sort.Int) ∷ (name_t, sort.Int) ∷ (name_v, sort.Val) ∷ (name_w, sort.Val) ∷ (name_k, sort.List) ∷ (name_m, sort.List) ∷ []); pre = (record { opened = []; facts = ([]); locals = []; items = ((Data (Var 0 sort.Int) (Var 2 sort.Val) (Var 4 sort.List)) ∷ (Data (Var 1 sort.Int) (Var 2 sort.Val) (Var 5 sort.List)) ∷ []) }); post = (record { opened = []; facts = ([]); locals = []; items = ((Data (Of2 binary.Add (Var 0 sort.Int) (Var 1 sort.Int)) (Var 2 sort.Val) (Var 4 sort.List)) ∷ []) }) }) (record { temps = (name_p ∷ []); body = (c.Then (c.Return None) c.End) }) (s.Then 1 (s.Unshare 0 1 ([])) s.NoBlock (s.Then 2 (s.Return ([]) ([]) ([])) s.NoBlock s.End)) ≡ (RefusedAt 1 32 1)
unfolding computing
conditions_684 = refl

conditions_685 : body_verdict (record { predicates = ((record { name = name_A; args = (sort.Int ∷ []); cases = ((record { opened = []; facts = ([]); locals = []; items = ([]) }) ∷ []) }) ∷ []); specs = ((record { is_void = true; name = name_f; params = (name_p ∷ []); vars = ((name_s, sort.Int) ∷ (name_t, sort.Int) ∷ (name_v, sort.Val) ∷ (name_w, sort.Val) ∷ (name_k, sort.List) ∷ (name_m, sort.List) ∷ []); pre = (record { opened = []; facts = ((Rel relation.Le (Number (pos 1)) (Var 1 sort.Int)) ∷ (Rel relation.Le (Of2 binary.Add (Var 1 sort.Int) (Number (pos 1))) (Var 0 sort.Int)) ∷ (Rel relation.Le (Of2 binary.Add (Var 0 sort.Int) (Var 1 sort.Int)) (Number (pos 64))) ∷ (Rel relation.Le (Number (pos 1)) (Of unary.Len (Var 4 sort.List))) ∷ []); locals = []; items = ((Data (Var 0 sort.Int) (Var 2 sort.Val) (Var 4 sort.List)) ∷ (Data (Var 1 sort.Int) (Var 2 sort.Val) (Var 5 sort.List)) ∷ []) }); post = (record { opened = []; facts = ([]); locals = []; items = ((Data (Of2 binary.Add (Var 0 sort.Int) (Var 1 sort.Int)) (Var 2 sort.Val) (Var 4 sort.List)) ∷ []) }) }) ∷ []) }) (record { is_void = true; name = name_f; params = (name_p ∷ []); vars = ((name_s, sort.Int) ∷ (name_t, sort.Int) ∷ (name_v, sort.Val) ∷ (name_w, sort.Val) ∷ (name_k, sort.List) ∷ (name_m, sort.List) ∷ []); pre = (record { opened = []; facts = ((Rel relation.Le (Number (pos 1)) (Var 1 sort.Int)) ∷ (Rel relation.Le (Of2 binary.Add (Var 1 sort.Int) (Number (pos 1))) (Var 0 sort.Int)) ∷ (Rel relation.Le (Of2 binary.Add (Var 0 sort.Int) (Var 1 sort.Int)) (Number (pos 64))) ∷ (Rel relation.Le (Number (pos 1)) (Of unary.Len (Var 4 sort.List))) ∷ []); locals = []; items = ((Data (Var 0 sort.Int) (Var 2 sort.Val) (Var 4 sort.List)) ∷ (Data (Var 1 sort.Int) (Var 2 sort.Val) (Var 5 sort.List)) ∷ []) }); post = (record { opened = []; facts = ([]); locals = []; items = ((Data (Of2 binary.Add (Var 0 sort.Int) (Var 1 sort.Int)) (Var 2 sort.Val) (Var 4 sort.List)) ∷ []) }) }) (record { temps = (name_p ∷ []); body = (c.Then (c.Return None) c.End) }) (s.Then 1 (s.Unshare 0 1 ([])) s.NoBlock (s.Then 2 (s.Return ([]) ([]) ([])) s.NoBlock s.End)) ≡ (RefusedAt 1 32 1)
unfolding computing
conditions_685 = refl

conditions_686 : body_verdict (record { predicates = ((record { name = name_A; args = (sort.Int ∷ []); cases = ((record { opened = []; facts = ([]); locals = []; items = ([]) }) ∷ []) }) ∷ []); specs = ((record { is_void = true; name = name_f; params = (name_p ∷ []); vars = ((name_s, sort.Int) ∷ (name_t, sort.Int) ∷ (name_v, sort.Val) ∷ (name_w, sort.Val) ∷ (name_k, sort.List) ∷ (name_m, sort.List) ∷ []); pre = (record { opened = []; facts = ((Rel relation.Le (Number (pos 1)) (Var 1 sort.Int)) ∷ (Rel relation.Le (Of2 binary.Add (Var 1 sort.Int) (Number (pos 1))) (Var 0 sort.Int)) ∷ (Rel relation.Le (Of2 binary.Add (Var 0 sort.Int) (Var 1 sort.Int)) (Number (pos 65))) ∷ (Rel relation.Le (Number (pos 1)) (Of unary.Len (Var 4 sort.List))) ∷ []); locals = []; items = ((Data (Var 0 sort.Int) (Var 2 sort.Val) (Var 4 sort.List)) ∷ (Data (Var 1 sort.Int) (Var 2 sort.Val) (Var 5 sort.List)) ∷ []) }); post = (record { opened = []; facts = ([]); locals = []; items = ((Data (Of2 binary.Add (Var 0 sort.Int) (Var 1 sort.Int)) (Var 2 sort.Val) (Var 4 sort.List)) ∷ []) }) }) ∷ []) }) (record { is_void = true; name = name_f; params = (name_p ∷ []); vars = ((name_s, sort.Int) ∷ (name_t, sort.Int) ∷ (name_v, sort.Val) ∷ (name_w, sort.Val) ∷ (name_k, sort.List) ∷ (name_m, sort.List) ∷ []); pre = (record { opened = []; facts = ((Rel relation.Le (Number (pos 1)) (Var 1 sort.Int)) ∷ (Rel relation.Le (Of2 binary.Add (Var 1 sort.Int) (Number (pos 1))) (Var 0 sort.Int)) ∷ (Rel relation.Le (Of2 binary.Add (Var 0 sort.Int) (Var 1 sort.Int)) (Number (pos 65))) ∷ (Rel relation.Le (Number (pos 1)) (Of unary.Len (Var 4 sort.List))) ∷ []); locals = []; items = ((Data (Var 0 sort.Int) (Var 2 sort.Val) (Var 4 sort.List)) ∷ (Data (Var 1 sort.Int) (Var 2 sort.Val) (Var 5 sort.List)) ∷ []) }); post = (record { opened = []; facts = ([]); locals = []; items = ((Data (Of2 binary.Add (Var 0 sort.Int) (Var 1 sort.Int)) (Var 2 sort.Val) (Var 4 sort.List)) ∷ []) }) }) (record { temps = (name_p ∷ []); body = (c.Then (c.Return None) c.End) }) (s.Then 1 (s.Unshare 0 1 ([])) s.NoBlock (s.Then 2 (s.Return ([]) ([]) ([])) s.NoBlock s.End)) ≡ (RefusedAt 1 32 1)
unfolding computing
conditions_686 = refl

conditions_687 : body_verdict (record { predicates = ((record { name = name_A; args = (sort.Int ∷ []); cases = ((record { opened = []; facts = ([]); locals = []; items = ([]) }) ∷ []) }) ∷ []); specs = ((record { is_void = true; name = name_f; params = (name_p ∷ []); vars = ((name_s, sort.Int) ∷ (name_t, sort.Int) ∷ (name_v, sort.Val) ∷ (name_w, sort.Val) ∷ (name_k, sort.List) ∷ (name_m, sort.List) ∷ []); pre = (record { opened = []; facts = ([]); locals = []; items = ((Lock (Var 0 sort.Int) (Var 2 sort.Val) (record { name = name_A; args = ((Number (pos 1)) ∷ []) })) ∷ []) }); post = (record { opened = []; facts = ([]); locals = []; items = ((Lock (Var 0 sort.Int) (Var 2 sort.Val) (record { name = name_A; args = ((Number (pos 1)) ∷ []) })) ∷ []) }) }) ∷ []) }) (record { is_void = true; name = name_f; params = (name_p ∷ []); vars = ((name_s, sort.Int) ∷ (name_t, sort.Int) ∷ (name_v, sort.Val) ∷ (name_w, sort.Val) ∷ (name_k, sort.List) ∷ (name_m, sort.List) ∷ []); pre = (record { opened = []; facts = ([]); locals = []; items = ((Lock (Var 0 sort.Int) (Var 2 sort.Val) (record { name = name_A; args = ((Number (pos 1)) ∷ []) })) ∷ []) }); post = (record { opened = []; facts = ([]); locals = []; items = ((Lock (Var 0 sort.Int) (Var 2 sort.Val) (record { name = name_A; args = ((Number (pos 1)) ∷ []) })) ∷ []) }) }) (record { temps = (name_p ∷ []); body = (c.Then (c.Return None) c.End) }) (s.Then 1 (s.Bounds 0 None ([])) s.NoBlock (s.Then 2 (s.Return ([]) ([]) ([])) s.NoBlock s.End)) ≡ Accepted
unfolding computing
conditions_687 = refl

conditions_688 : body_verdict (record { predicates = ((record { name = name_A; args = (sort.Int ∷ []); cases = ((record { opened = []; facts = ([]); locals = []; items = ([]) }) ∷ []) }) ∷ []); specs = ((record { is_void = true; name = name_f; params = (name_p ∷ []); vars = ((name_s, sort.Int) ∷ (name_t, sort.Int) ∷ (name_v, sort.Val) ∷ (name_w, sort.Val) ∷ (name_k, sort.List) ∷ (name_m, sort.List) ∷ []); pre = (record { opened = []; facts = ([]); locals = []; items = ((Lock (Var 0 sort.Int) (Var 2 sort.Val) (record { name = name_A; args = ((Number (pos 1)) ∷ []) })) ∷ []) }); post = (record { opened = []; facts = ([]); locals = []; items = ((Lock (Var 0 sort.Int) (Var 2 sort.Val) (record { name = name_A; args = ((Number (pos 1)) ∷ []) })) ∷ []) }) }) ∷ []) }) (record { is_void = true; name = name_f; params = (name_p ∷ []); vars = ((name_s, sort.Int) ∷ (name_t, sort.Int) ∷ (name_v, sort.Val) ∷ (name_w, sort.Val) ∷ (name_k, sort.List) ∷ (name_m, sort.List) ∷ []); pre = (record { opened = []; facts = ([]); locals = []; items = ((Lock (Var 0 sort.Int) (Var 2 sort.Val) (record { name = name_A; args = ((Number (pos 1)) ∷ []) })) ∷ []) }); post = (record { opened = []; facts = ([]); locals = []; items = ((Lock (Var 0 sort.Int) (Var 2 sort.Val) (record { name = name_A; args = ((Number (pos 1)) ∷ []) })) ∷ []) }) }) (record { temps = (name_p ∷ []); body = (c.Then (c.Return None) c.End) }) (s.Then 1 (s.Bounds 0 None ([])) s.NoBlock (s.Then 2 (s.Have (Rel relation.Le (Of2 binary.Add (Named name_s) (Named name_t)) (Number (pos 64))) ([])) s.NoBlock (s.Then 3 (s.Return ([]) ([]) ([])) s.NoBlock s.End))) ≡ (RefusedAt 2 25 3)
unfolding computing
conditions_688 = refl

conditions_689 : body_verdict (record { predicates = ((record { name = name_A; args = (sort.Int ∷ []); cases = ((record { opened = []; facts = ([]); locals = []; items = ([]) }) ∷ []) }) ∷ []); specs = ((record { is_void = true; name = name_f; params = (name_p ∷ []); vars = ((name_s, sort.Int) ∷ (name_t, sort.Int) ∷ (name_v, sort.Val) ∷ (name_w, sort.Val) ∷ (name_k, sort.List) ∷ (name_m, sort.List) ∷ []); pre = (record { opened = []; facts = ([]); locals = []; items = ((Lock (Var 0 sort.Int) (Var 2 sort.Val) (record { name = name_A; args = ((Number (pos 1)) ∷ []) })) ∷ []) }); post = (record { opened = []; facts = ([]); locals = []; items = ((Lock (Var 0 sort.Int) (Var 2 sort.Val) (record { name = name_A; args = ((Number (pos 1)) ∷ []) })) ∷ []) }) }) ∷ []) }) (record { is_void = true; name = name_f; params = (name_p ∷ []); vars = ((name_s, sort.Int) ∷ (name_t, sort.Int) ∷ (name_v, sort.Val) ∷ (name_w, sort.Val) ∷ (name_k, sort.List) ∷ (name_m, sort.List) ∷ []); pre = (record { opened = []; facts = ([]); locals = []; items = ((Lock (Var 0 sort.Int) (Var 2 sort.Val) (record { name = name_A; args = ((Number (pos 1)) ∷ []) })) ∷ []) }); post = (record { opened = []; facts = ([]); locals = []; items = ((Lock (Var 0 sort.Int) (Var 2 sort.Val) (record { name = name_A; args = ((Number (pos 1)) ∷ []) })) ∷ []) }) }) (record { temps = (name_p ∷ []); body = (c.Then (c.Return None) c.End) }) (s.Then 1 (s.Bounds 0 None ([])) s.NoBlock (s.Then 2 (s.Have (IsPtr (Named name_v)) ([])) s.NoBlock (s.Then 3 (s.Have (Rel relation.Le (Named name_s) (Number (pos 64))) ([])) s.NoBlock (s.Then 4 (s.Have (Rel relation.Le (Number (pos 1)) (Named name_s)) ([])) s.NoBlock (s.Then 5 (s.Return ([]) ([]) ([])) s.NoBlock s.End))))) ≡ Accepted
unfolding computing
conditions_689 = refl

conditions_690 : body_verdict (record { predicates = ((record { name = name_A; args = (sort.Int ∷ []); cases = ((record { opened = []; facts = ([]); locals = []; items = ([]) }) ∷ []) }) ∷ []); specs = ((record { is_void = true; name = name_f; params = (name_p ∷ []); vars = ((name_s, sort.Int) ∷ (name_t, sort.Int) ∷ (name_v, sort.Val) ∷ (name_w, sort.Val) ∷ (name_k, sort.List) ∷ (name_m, sort.List) ∷ []); pre = (record { opened = []; facts = ((Rel relation.Le (Number (pos 1)) (Var 1 sort.Int)) ∷ (Rel relation.Le (Of2 binary.Add (Var 1 sort.Int) (Number (pos 1))) (Var 0 sort.Int)) ∷ (Rel relation.Le (Of2 binary.Add (Var 0 sort.Int) (Var 1 sort.Int)) (Number (pos 64))) ∷ (Rel relation.Le (Number (pos 1)) (Of unary.Len (Var 4 sort.List))) ∷ []); locals = []; items = ((Lock (Var 0 sort.Int) (Var 2 sort.Val) (record { name = name_A; args = ((Number (pos 1)) ∷ []) })) ∷ []) }); post = (record { opened = []; facts = ([]); locals = []; items = ((Lock (Var 0 sort.Int) (Var 2 sort.Val) (record { name = name_A; args = ((Number (pos 1)) ∷ []) })) ∷ []) }) }) ∷ []) }) (record { is_void = true; name = name_f; params = (name_p ∷ []); vars = ((name_s, sort.Int) ∷ (name_t, sort.Int) ∷ (name_v, sort.Val) ∷ (name_w, sort.Val) ∷ (name_k, sort.List) ∷ (name_m, sort.List) ∷ []); pre = (record { opened = []; facts = ((Rel relation.Le (Number (pos 1)) (Var 1 sort.Int)) ∷ (Rel relation.Le (Of2 binary.Add (Var 1 sort.Int) (Number (pos 1))) (Var 0 sort.Int)) ∷ (Rel relation.Le (Of2 binary.Add (Var 0 sort.Int) (Var 1 sort.Int)) (Number (pos 64))) ∷ (Rel relation.Le (Number (pos 1)) (Of unary.Len (Var 4 sort.List))) ∷ []); locals = []; items = ((Lock (Var 0 sort.Int) (Var 2 sort.Val) (record { name = name_A; args = ((Number (pos 1)) ∷ []) })) ∷ []) }); post = (record { opened = []; facts = ([]); locals = []; items = ((Lock (Var 0 sort.Int) (Var 2 sort.Val) (record { name = name_A; args = ((Number (pos 1)) ∷ []) })) ∷ []) }) }) (record { temps = (name_p ∷ []); body = (c.Then (c.Return None) c.End) }) (s.Then 1 (s.Bounds 0 None ([])) s.NoBlock (s.Then 2 (s.Return ([]) ([]) ([])) s.NoBlock s.End)) ≡ Accepted
unfolding computing
conditions_690 = refl

conditions_691 : body_verdict (record { predicates = ((record { name = name_A; args = (sort.Int ∷ []); cases = ((record { opened = []; facts = ([]); locals = []; items = ([]) }) ∷ []) }) ∷ []); specs = ((record { is_void = true; name = name_f; params = (name_p ∷ []); vars = ((name_s, sort.Int) ∷ (name_t, sort.Int) ∷ (name_v, sort.Val) ∷ (name_w, sort.Val) ∷ (name_k, sort.List) ∷ (name_m, sort.List) ∷ []); pre = (record { opened = []; facts = ((Rel relation.Le (Number (pos 1)) (Var 1 sort.Int)) ∷ (Rel relation.Le (Of2 binary.Add (Var 1 sort.Int) (Number (pos 1))) (Var 0 sort.Int)) ∷ (Rel relation.Le (Of2 binary.Add (Var 0 sort.Int) (Var 1 sort.Int)) (Number (pos 64))) ∷ (Rel relation.Le (Number (pos 1)) (Of unary.Len (Var 4 sort.List))) ∷ []); locals = []; items = ((Lock (Var 0 sort.Int) (Var 2 sort.Val) (record { name = name_A; args = ((Number (pos 1)) ∷ []) })) ∷ []) }); post = (record { opened = []; facts = ([]); locals = []; items = ((Lock (Var 0 sort.Int) (Var 2 sort.Val) (record { name = name_A; args = ((Number (pos 1)) ∷ []) })) ∷ []) }) }) ∷ []) }) (record { is_void = true; name = name_f; params = (name_p ∷ []); vars = ((name_s, sort.Int) ∷ (name_t, sort.Int) ∷ (name_v, sort.Val) ∷ (name_w, sort.Val) ∷ (name_k, sort.List) ∷ (name_m, sort.List) ∷ []); pre = (record { opened = []; facts = ((Rel relation.Le (Number (pos 1)) (Var 1 sort.Int)) ∷ (Rel relation.Le (Of2 binary.Add (Var 1 sort.Int) (Number (pos 1))) (Var 0 sort.Int)) ∷ (Rel relation.Le (Of2 binary.Add (Var 0 sort.Int) (Var 1 sort.Int)) (Number (pos 64))) ∷ (Rel relation.Le (Number (pos 1)) (Of unary.Len (Var 4 sort.List))) ∷ []); locals = []; items = ((Lock (Var 0 sort.Int) (Var 2 sort.Val) (record { name = name_A; args = ((Number (pos 1)) ∷ []) })) ∷ []) }); post = (record { opened = []; facts = ([]); locals = []; items = ((Lock (Var 0 sort.Int) (Var 2 sort.Val) (record { name = name_A; args = ((Number (pos 1)) ∷ []) })) ∷ []) }) }) (record { temps = (name_p ∷ []); body = (c.Then (c.Return None) c.End) }) (s.Then 1 (s.Bounds 0 None ([])) s.NoBlock (s.Then 2 (s.Have (Rel relation.Le (Of2 binary.Add (Named name_s) (Named name_t)) (Number (pos 64))) ([])) s.NoBlock (s.Then 3 (s.Return ([]) ([]) ([])) s.NoBlock s.End))) ≡ Accepted
unfolding computing
conditions_691 = refl

conditions_692 : body_verdict (record { predicates = ((record { name = name_A; args = (sort.Int ∷ []); cases = ((record { opened = []; facts = ([]); locals = []; items = ([]) }) ∷ []) }) ∷ []); specs = ((record { is_void = true; name = name_f; params = (name_p ∷ []); vars = ((name_s, sort.Int) ∷ (name_t, sort.Int) ∷ (name_v, sort.Val) ∷ (name_w, sort.Val) ∷ (name_k, sort.List) ∷ (name_m, sort.List) ∷ []); pre = (record { opened = []; facts = ((Rel relation.Le (Number (pos 1)) (Var 1 sort.Int)) ∷ (Rel relation.Le (Of2 binary.Add (Var 1 sort.Int) (Number (pos 1))) (Var 0 sort.Int)) ∷ (Rel relation.Le (Of2 binary.Add (Var 0 sort.Int) (Var 1 sort.Int)) (Number (pos 64))) ∷ (Rel relation.Le (Number (pos 1)) (Of unary.Len (Var 4 sort.List))) ∷ []); locals = []; items = ((Lock (Var 0 sort.Int) (Var 2 sort.Val) (record { name = name_A; args = ((Number (pos 1)) ∷ []) })) ∷ []) }); post = (record { opened = []; facts = ([]); locals = []; items = ((Lock (Var 0 sort.Int) (Var 2 sort.Val) (record { name = name_A; args = ((Number (pos 1)) ∷ []) })) ∷ []) }) }) ∷ []) }) (record { is_void = true; name = name_f; params = (name_p ∷ []); vars = ((name_s, sort.Int) ∷ (name_t, sort.Int) ∷ (name_v, sort.Val) ∷ (name_w, sort.Val) ∷ (name_k, sort.List) ∷ (name_m, sort.List) ∷ []); pre = (record { opened = []; facts = ((Rel relation.Le (Number (pos 1)) (Var 1 sort.Int)) ∷ (Rel relation.Le (Of2 binary.Add (Var 1 sort.Int) (Number (pos 1))) (Var 0 sort.Int)) ∷ (Rel relation.Le (Of2 binary.Add (Var 0 sort.Int) (Var 1 sort.Int)) (Number (pos 64))) ∷ (Rel relation.Le (Number (pos 1)) (Of unary.Len (Var 4 sort.List))) ∷ []); locals = []; items = ((Lock (Var 0 sort.Int) (Var 2 sort.Val) (record { name = name_A; args = ((Number (pos 1)) ∷ []) })) ∷ []) }); post = (record { opened = []; facts = ([]); locals = []; items = ((Lock (Var 0 sort.Int) (Var 2 sort.Val) (record { name = name_A; args = ((Number (pos 1)) ∷ []) })) ∷ []) }) }) (record { temps = (name_p ∷ []); body = (c.Then (c.Return None) c.End) }) (s.Then 1 (s.Bounds 0 None ([])) s.NoBlock (s.Then 2 (s.Have (IsPtr (Named name_v)) ([])) s.NoBlock (s.Then 3 (s.Have (Rel relation.Le (Named name_s) (Number (pos 64))) ([])) s.NoBlock (s.Then 4 (s.Have (Rel relation.Le (Number (pos 1)) (Named name_s)) ([])) s.NoBlock (s.Then 5 (s.Return ([]) ([]) ([])) s.NoBlock s.End))))) ≡ Accepted
unfolding computing
conditions_692 = refl

conditions_693 : body_verdict (record { predicates = ((record { name = name_A; args = (sort.Int ∷ []); cases = ((record { opened = []; facts = ([]); locals = []; items = ([]) }) ∷ []) }) ∷ []); specs = ((record { is_void = true; name = name_f; params = (name_p ∷ []); vars = ((name_s, sort.Int) ∷ (name_t, sort.Int) ∷ (name_v, sort.Val) ∷ (name_w, sort.Val) ∷ (name_k, sort.List) ∷ (name_m, sort.List) ∷ []); pre = (record { opened = []; facts = ((Rel relation.Le (Number (pos 1)) (Var 1 sort.Int)) ∷ (Rel relation.Le (Of2 binary.Add (Var 1 sort.Int) (Number (pos 1))) (Var 0 sort.Int)) ∷ (Rel relation.Le (Of2 binary.Add (Var 0 sort.Int) (Var 1 sort.Int)) (Number (pos 65))) ∷ (Rel relation.Le (Number (pos 1)) (Of unary.Len (Var 4 sort.List))) ∷ []); locals = []; items = ((Lock (Var 0 sort.Int) (Var 2 sort.Val) (record { name = name_A; args = ((Number (pos 1)) ∷ []) })) ∷ []) }); post = (record { opened = []; facts = ([]); locals = []; items = ((Lock (Var 0 sort.Int) (Var 2 sort.Val) (record { name = name_A; args = ((Number (pos 1)) ∷ []) })) ∷ []) }) }) ∷ []) }) (record { is_void = true; name = name_f; params = (name_p ∷ []); vars = ((name_s, sort.Int) ∷ (name_t, sort.Int) ∷ (name_v, sort.Val) ∷ (name_w, sort.Val) ∷ (name_k, sort.List) ∷ (name_m, sort.List) ∷ []); pre = (record { opened = []; facts = ((Rel relation.Le (Number (pos 1)) (Var 1 sort.Int)) ∷ (Rel relation.Le (Of2 binary.Add (Var 1 sort.Int) (Number (pos 1))) (Var 0 sort.Int)) ∷ (Rel relation.Le (Of2 binary.Add (Var 0 sort.Int) (Var 1 sort.Int)) (Number (pos 65))) ∷ (Rel relation.Le (Number (pos 1)) (Of unary.Len (Var 4 sort.List))) ∷ []); locals = []; items = ((Lock (Var 0 sort.Int) (Var 2 sort.Val) (record { name = name_A; args = ((Number (pos 1)) ∷ []) })) ∷ []) }); post = (record { opened = []; facts = ([]); locals = []; items = ((Lock (Var 0 sort.Int) (Var 2 sort.Val) (record { name = name_A; args = ((Number (pos 1)) ∷ []) })) ∷ []) }) }) (record { temps = (name_p ∷ []); body = (c.Then (c.Return None) c.End) }) (s.Then 1 (s.Bounds 0 None ([])) s.NoBlock (s.Then 2 (s.Return ([]) ([]) ([])) s.NoBlock s.End)) ≡ Accepted
unfolding computing
conditions_693 = refl

conditions_694 : body_verdict (record { predicates = ((record { name = name_A; args = (sort.Int ∷ []); cases = ((record { opened = []; facts = ([]); locals = []; items = ([]) }) ∷ []) }) ∷ []); specs = ((record { is_void = true; name = name_f; params = (name_p ∷ []); vars = ((name_s, sort.Int) ∷ (name_t, sort.Int) ∷ (name_v, sort.Val) ∷ (name_w, sort.Val) ∷ (name_k, sort.List) ∷ (name_m, sort.List) ∷ []); pre = (record { opened = []; facts = ((Rel relation.Le (Number (pos 1)) (Var 1 sort.Int)) ∷ (Rel relation.Le (Of2 binary.Add (Var 1 sort.Int) (Number (pos 1))) (Var 0 sort.Int)) ∷ (Rel relation.Le (Of2 binary.Add (Var 0 sort.Int) (Var 1 sort.Int)) (Number (pos 65))) ∷ (Rel relation.Le (Number (pos 1)) (Of unary.Len (Var 4 sort.List))) ∷ []); locals = []; items = ((Lock (Var 0 sort.Int) (Var 2 sort.Val) (record { name = name_A; args = ((Number (pos 1)) ∷ []) })) ∷ []) }); post = (record { opened = []; facts = ([]); locals = []; items = ((Lock (Var 0 sort.Int) (Var 2 sort.Val) (record { name = name_A; args = ((Number (pos 1)) ∷ []) })) ∷ []) }) }) ∷ []) }) (record { is_void = true; name = name_f; params = (name_p ∷ []); vars = ((name_s, sort.Int) ∷ (name_t, sort.Int) ∷ (name_v, sort.Val) ∷ (name_w, sort.Val) ∷ (name_k, sort.List) ∷ (name_m, sort.List) ∷ []); pre = (record { opened = []; facts = ((Rel relation.Le (Number (pos 1)) (Var 1 sort.Int)) ∷ (Rel relation.Le (Of2 binary.Add (Var 1 sort.Int) (Number (pos 1))) (Var 0 sort.Int)) ∷ (Rel relation.Le (Of2 binary.Add (Var 0 sort.Int) (Var 1 sort.Int)) (Number (pos 65))) ∷ (Rel relation.Le (Number (pos 1)) (Of unary.Len (Var 4 sort.List))) ∷ []); locals = []; items = ((Lock (Var 0 sort.Int) (Var 2 sort.Val) (record { name = name_A; args = ((Number (pos 1)) ∷ []) })) ∷ []) }); post = (record { opened = []; facts = ([]); locals = []; items = ((Lock (Var 0 sort.Int) (Var 2 sort.Val) (record { name = name_A; args = ((Number (pos 1)) ∷ []) })) ∷ []) }) }) (record { temps = (name_p ∷ []); body = (c.Then (c.Return None) c.End) }) (s.Then 1 (s.Bounds 0 None ([])) s.NoBlock (s.Then 2 (s.Have (Rel relation.Le (Of2 binary.Add (Named name_s) (Named name_t)) (Number (pos 64))) ([])) s.NoBlock (s.Then 3 (s.Return ([]) ([]) ([])) s.NoBlock s.End))) ≡ (RefusedAt 2 25 3)
unfolding computing
conditions_694 = refl

conditions_695 : body_verdict (record { predicates = ((record { name = name_A; args = (sort.Int ∷ []); cases = ((record { opened = []; facts = ([]); locals = []; items = ([]) }) ∷ []) }) ∷ []); specs = ((record { is_void = true; name = name_f; params = (name_p ∷ []); vars = ((name_s, sort.Int) ∷ (name_t, sort.Int) ∷ (name_v, sort.Val) ∷ (name_w, sort.Val) ∷ (name_k, sort.List) ∷ (name_m, sort.List) ∷ []); pre = (record { opened = []; facts = ((Rel relation.Le (Number (pos 1)) (Var 1 sort.Int)) ∷ (Rel relation.Le (Of2 binary.Add (Var 1 sort.Int) (Number (pos 1))) (Var 0 sort.Int)) ∷ (Rel relation.Le (Of2 binary.Add (Var 0 sort.Int) (Var 1 sort.Int)) (Number (pos 65))) ∷ (Rel relation.Le (Number (pos 1)) (Of unary.Len (Var 4 sort.List))) ∷ []); locals = []; items = ((Lock (Var 0 sort.Int) (Var 2 sort.Val) (record { name = name_A; args = ((Number (pos 1)) ∷ []) })) ∷ []) }); post = (record { opened = []; facts = ([]); locals = []; items = ((Lock (Var 0 sort.Int) (Var 2 sort.Val) (record { name = name_A; args = ((Number (pos 1)) ∷ []) })) ∷ []) }) }) ∷ []) }) (record { is_void = true; name = name_f; params = (name_p ∷ []); vars = ((name_s, sort.Int) ∷ (name_t, sort.Int) ∷ (name_v, sort.Val) ∷ (name_w, sort.Val) ∷ (name_k, sort.List) ∷ (name_m, sort.List) ∷ []); pre = (record { opened = []; facts = ((Rel relation.Le (Number (pos 1)) (Var 1 sort.Int)) ∷ (Rel relation.Le (Of2 binary.Add (Var 1 sort.Int) (Number (pos 1))) (Var 0 sort.Int)) ∷ (Rel relation.Le (Of2 binary.Add (Var 0 sort.Int) (Var 1 sort.Int)) (Number (pos 65))) ∷ (Rel relation.Le (Number (pos 1)) (Of unary.Len (Var 4 sort.List))) ∷ []); locals = []; items = ((Lock (Var 0 sort.Int) (Var 2 sort.Val) (record { name = name_A; args = ((Number (pos 1)) ∷ []) })) ∷ []) }); post = (record { opened = []; facts = ([]); locals = []; items = ((Lock (Var 0 sort.Int) (Var 2 sort.Val) (record { name = name_A; args = ((Number (pos 1)) ∷ []) })) ∷ []) }) }) (record { temps = (name_p ∷ []); body = (c.Then (c.Return None) c.End) }) (s.Then 1 (s.Bounds 0 None ([])) s.NoBlock (s.Then 2 (s.Have (IsPtr (Named name_v)) ([])) s.NoBlock (s.Then 3 (s.Have (Rel relation.Le (Named name_s) (Number (pos 64))) ([])) s.NoBlock (s.Then 4 (s.Have (Rel relation.Le (Number (pos 1)) (Named name_s)) ([])) s.NoBlock (s.Then 5 (s.Return ([]) ([]) ([])) s.NoBlock s.End))))) ≡ Accepted
unfolding computing
conditions_695 = refl

conditions_696 : body_verdict (record { predicates = ((record { name = name_A; args = (sort.Int ∷ []); cases = ((record { opened = []; facts = ([]); locals = []; items = ([]) }) ∷ []) }) ∷ []); specs = ((record { is_void = true; name = name_f; params = (name_p ∷ []); vars = ((name_s, sort.Int) ∷ (name_t, sort.Int) ∷ (name_v, sort.Val) ∷ (name_w, sort.Val) ∷ (name_k, sort.List) ∷ (name_m, sort.List) ∷ []); pre = (record { opened = []; facts = ([]); locals = []; items = ((Lock (Var 0 sort.Int) (Var 2 sort.Val) (record { name = name_A; args = ((Number (pos 1)) ∷ []) })) ∷ (Lock (Var 1 sort.Int) (Var 2 sort.Val) (record { name = name_A; args = ((Number (pos 1)) ∷ []) })) ∷ []) }); post = (record { opened = []; facts = ([]); locals = []; items = ((Lock (Var 0 sort.Int) (Var 2 sort.Val) (record { name = name_A; args = ((Number (pos 1)) ∷ []) })) ∷ (Lock (Var 1 sort.Int) (Var 2 sort.Val) (record { name = name_A; args = ((Number (pos 1)) ∷ []) })) ∷ []) }) }) ∷ []) }) (record { is_void = true; name = name_f; params = (name_p ∷ []); vars = ((name_s, sort.Int) ∷ (name_t, sort.Int) ∷ (name_v, sort.Val) ∷ (name_w, sort.Val) ∷ (name_k, sort.List) ∷ (name_m, sort.List) ∷ []); pre = (record { opened = []; facts = ([]); locals = []; items = ((Lock (Var 0 sort.Int) (Var 2 sort.Val) (record { name = name_A; args = ((Number (pos 1)) ∷ []) })) ∷ (Lock (Var 1 sort.Int) (Var 2 sort.Val) (record { name = name_A; args = ((Number (pos 1)) ∷ []) })) ∷ []) }); post = (record { opened = []; facts = ([]); locals = []; items = ((Lock (Var 0 sort.Int) (Var 2 sort.Val) (record { name = name_A; args = ((Number (pos 1)) ∷ []) })) ∷ (Lock (Var 1 sort.Int) (Var 2 sort.Val) (record { name = name_A; args = ((Number (pos 1)) ∷ []) })) ∷ []) }) }) (record { temps = (name_p ∷ []); body = (c.Then (c.Return None) c.End) }) (s.Then 1 (s.Bounds 0 (Some 1) ([])) s.NoBlock (s.Then 2 (s.Return ([]) ([]) ([])) s.NoBlock s.End)) ≡ Accepted
unfolding computing
conditions_696 = refl

conditions_697 : body_verdict (record { predicates = ((record { name = name_A; args = (sort.Int ∷ []); cases = ((record { opened = []; facts = ([]); locals = []; items = ([]) }) ∷ []) }) ∷ []); specs = ((record { is_void = true; name = name_f; params = (name_p ∷ []); vars = ((name_s, sort.Int) ∷ (name_t, sort.Int) ∷ (name_v, sort.Val) ∷ (name_w, sort.Val) ∷ (name_k, sort.List) ∷ (name_m, sort.List) ∷ []); pre = (record { opened = []; facts = ([]); locals = []; items = ((Lock (Var 0 sort.Int) (Var 2 sort.Val) (record { name = name_A; args = ((Number (pos 1)) ∷ []) })) ∷ (Lock (Var 1 sort.Int) (Var 2 sort.Val) (record { name = name_A; args = ((Number (pos 1)) ∷ []) })) ∷ []) }); post = (record { opened = []; facts = ([]); locals = []; items = ((Lock (Var 0 sort.Int) (Var 2 sort.Val) (record { name = name_A; args = ((Number (pos 1)) ∷ []) })) ∷ (Lock (Var 1 sort.Int) (Var 2 sort.Val) (record { name = name_A; args = ((Number (pos 1)) ∷ []) })) ∷ []) }) }) ∷ []) }) (record { is_void = true; name = name_f; params = (name_p ∷ []); vars = ((name_s, sort.Int) ∷ (name_t, sort.Int) ∷ (name_v, sort.Val) ∷ (name_w, sort.Val) ∷ (name_k, sort.List) ∷ (name_m, sort.List) ∷ []); pre = (record { opened = []; facts = ([]); locals = []; items = ((Lock (Var 0 sort.Int) (Var 2 sort.Val) (record { name = name_A; args = ((Number (pos 1)) ∷ []) })) ∷ (Lock (Var 1 sort.Int) (Var 2 sort.Val) (record { name = name_A; args = ((Number (pos 1)) ∷ []) })) ∷ []) }); post = (record { opened = []; facts = ([]); locals = []; items = ((Lock (Var 0 sort.Int) (Var 2 sort.Val) (record { name = name_A; args = ((Number (pos 1)) ∷ []) })) ∷ (Lock (Var 1 sort.Int) (Var 2 sort.Val) (record { name = name_A; args = ((Number (pos 1)) ∷ []) })) ∷ []) }) }) (record { temps = (name_p ∷ []); body = (c.Then (c.Return None) c.End) }) (s.Then 1 (s.Bounds 0 (Some 1) ([])) s.NoBlock (s.Then 2 (s.Have (Rel relation.Le (Of2 binary.Add (Named name_s) (Named name_t)) (Number (pos 64))) ([])) s.NoBlock (s.Then 3 (s.Return ([]) ([]) ([])) s.NoBlock s.End))) ≡ Accepted
unfolding computing
conditions_697 = refl

conditions_698 : body_verdict (record { predicates = ((record { name = name_A; args = (sort.Int ∷ []); cases = ((record { opened = []; facts = ([]); locals = []; items = ([]) }) ∷ []) }) ∷ []); specs = ((record { is_void = true; name = name_f; params = (name_p ∷ []); vars = ((name_s, sort.Int) ∷ (name_t, sort.Int) ∷ (name_v, sort.Val) ∷ (name_w, sort.Val) ∷ (name_k, sort.List) ∷ (name_m, sort.List) ∷ []); pre = (record { opened = []; facts = ([]); locals = []; items = ((Lock (Var 0 sort.Int) (Var 2 sort.Val) (record { name = name_A; args = ((Number (pos 1)) ∷ []) })) ∷ (Lock (Var 1 sort.Int) (Var 2 sort.Val) (record { name = name_A; args = ((Number (pos 1)) ∷ []) })) ∷ []) }); post = (record { opened = []; facts = ([]); locals = []; items = ((Lock (Var 0 sort.Int) (Var 2 sort.Val) (record { name = name_A; args = ((Number (pos 1)) ∷ []) })) ∷ (Lock (Var 1 sort.Int) (Var 2 sort.Val) (record { name = name_A; args = ((Number (pos 1)) ∷ []) })) ∷ []) }) }) ∷ []) }) (record { is_void = true; name = name_f; params = (name_p ∷ []); vars = ((name_s, sort.Int) ∷ (name_t, sort.Int) ∷ (name_v, sort.Val) ∷ (name_w, sort.Val) ∷ (name_k, sort.List) ∷ (name_m, sort.List) ∷ []); pre = (record { opened = []; facts = ([]); locals = []; items = ((Lock (Var 0 sort.Int) (Var 2 sort.Val) (record { name = name_A; args = ((Number (pos 1)) ∷ []) })) ∷ (Lock (Var 1 sort.Int) (Var 2 sort.Val) (record { name = name_A; args = ((Number (pos 1)) ∷ []) })) ∷ []) }); post = (record { opened = []; facts = ([]); locals = []; items = ((Lock (Var 0 sort.Int) (Var 2 sort.Val) (record { name = name_A; args = ((Number (pos 1)) ∷ []) })) ∷ (Lock (Var 1 sort.Int) (Var 2 sort.Val) (record { name = name_A; args = ((Number (pos 1)) ∷ []) })) ∷ []) }) }) (record { temps = (name_p ∷ []); body = (c.Then (c.Return None) c.End) }) (s.Then 1 (s.Bounds 0 (Some 1) ([])) s.NoBlock (s.Then 2 (s.Have (IsPtr (Named name_v)) ([])) s.NoBlock (s.Then 3 (s.Have (Rel relation.Le (Named name_s) (Number (pos 64))) ([])) s.NoBlock (s.Then 4 (s.Have (Rel relation.Le (Number (pos 1)) (Named name_s)) ([])) s.NoBlock (s.Then 5 (s.Return ([]) ([]) ([])) s.NoBlock s.End))))) ≡ (RefusedAt 2 25 3)
unfolding computing
conditions_698 = refl

conditions_699 : body_verdict (record { predicates = ((record { name = name_A; args = (sort.Int ∷ []); cases = ((record { opened = []; facts = ([]); locals = []; items = ([]) }) ∷ []) }) ∷ []); specs = ((record { is_void = true; name = name_f; params = (name_p ∷ []); vars = ((name_s, sort.Int) ∷ (name_t, sort.Int) ∷ (name_v, sort.Val) ∷ (name_w, sort.Val) ∷ (name_k, sort.List) ∷ (name_m, sort.List) ∷ []); pre = (record { opened = []; facts = ((Rel relation.Le (Number (pos 1)) (Var 1 sort.Int)) ∷ (Rel relation.Le (Of2 binary.Add (Var 1 sort.Int) (Number (pos 1))) (Var 0 sort.Int)) ∷ (Rel relation.Le (Of2 binary.Add (Var 0 sort.Int) (Var 1 sort.Int)) (Number (pos 64))) ∷ (Rel relation.Le (Number (pos 1)) (Of unary.Len (Var 4 sort.List))) ∷ []); locals = []; items = ((Lock (Var 0 sort.Int) (Var 2 sort.Val) (record { name = name_A; args = ((Number (pos 1)) ∷ []) })) ∷ (Lock (Var 1 sort.Int) (Var 2 sort.Val) (record { name = name_A; args = ((Number (pos 1)) ∷ []) })) ∷ []) }); post = (record { opened = []; facts = ([]); locals = []; items = ((Lock (Var 0 sort.Int) (Var 2 sort.Val) (record { name = name_A; args = ((Number (pos 1)) ∷ []) })) ∷ (Lock (Var 1 sort.Int) (Var 2 sort.Val) (record { name = name_A; args = ((Number (pos 1)) ∷ []) })) ∷ []) }) }) ∷ []) }) (record { is_void = true; name = name_f; params = (name_p ∷ []); vars = ((name_s, sort.Int) ∷ (name_t, sort.Int) ∷ (name_v, sort.Val) ∷ (name_w, sort.Val) ∷ (name_k, sort.List) ∷ (name_m, sort.List) ∷ []); pre = (record { opened = []; facts = ((Rel relation.Le (Number (pos 1)) (Var 1 sort.Int)) ∷ (Rel relation.Le (Of2 binary.Add (Var 1 sort.Int) (Number (pos 1))) (Var 0 sort.Int)) ∷ (Rel relation.Le (Of2 binary.Add (Var 0 sort.Int) (Var 1 sort.Int)) (Number (pos 64))) ∷ (Rel relation.Le (Number (pos 1)) (Of unary.Len (Var 4 sort.List))) ∷ []); locals = []; items = ((Lock (Var 0 sort.Int) (Var 2 sort.Val) (record { name = name_A; args = ((Number (pos 1)) ∷ []) })) ∷ (Lock (Var 1 sort.Int) (Var 2 sort.Val) (record { name = name_A; args = ((Number (pos 1)) ∷ []) })) ∷ []) }); post = (record { opened = []; facts = ([]); locals = []; items = ((Lock (Var 0 sort.Int) (Var 2 sort.Val) (record { name = name_A; args = ((Number (pos 1)) ∷ []) })) ∷ (Lock (Var 1 sort.Int) (Var 2 sort.Val) (record { name = name_A; args = ((Number (pos 1)) ∷ []) })) ∷ []) }) }) (record { temps = (name_p ∷ []); body = (c.Then (c.Return None) c.End) }) (s.Then 1 (s.Bounds 0 (Some 1) ([])) s.NoBlock (s.Then 2 (s.Return ([]) ([]) ([])) s.NoBlock s.End)) ≡ Accepted
unfolding computing
conditions_699 = refl

conditions_700 : body_verdict (record { predicates = ((record { name = name_A; args = (sort.Int ∷ []); cases = ((record { opened = []; facts = ([]); locals = []; items = ([]) }) ∷ []) }) ∷ []); specs = ((record { is_void = true; name = name_f; params = (name_p ∷ []); vars = ((name_s, sort.Int) ∷ (name_t, sort.Int) ∷ (name_v, sort.Val) ∷ (name_w, sort.Val) ∷ (name_k, sort.List) ∷ (name_m, sort.List) ∷ []); pre = (record { opened = []; facts = ((Rel relation.Le (Number (pos 1)) (Var 1 sort.Int)) ∷ (Rel relation.Le (Of2 binary.Add (Var 1 sort.Int) (Number (pos 1))) (Var 0 sort.Int)) ∷ (Rel relation.Le (Of2 binary.Add (Var 0 sort.Int) (Var 1 sort.Int)) (Number (pos 64))) ∷ (Rel relation.Le (Number (pos 1)) (Of unary.Len (Var 4 sort.List))) ∷ []); locals = []; items = ((Lock (Var 0 sort.Int) (Var 2 sort.Val) (record { name = name_A; args = ((Number (pos 1)) ∷ []) })) ∷ (Lock (Var 1 sort.Int) (Var 2 sort.Val) (record { name = name_A; args = ((Number (pos 1)) ∷ []) })) ∷ []) }); post = (record { opened = []; facts = ([]); locals = []; items = ((Lock (Var 0 sort.Int) (Var 2 sort.Val) (record { name = name_A; args = ((Number (pos 1)) ∷ []) })) ∷ (Lock (Var 1 sort.Int) (Var 2 sort.Val) (record { name = name_A; args = ((Number (pos 1)) ∷ []) })) ∷ []) }) }) ∷ []) }) (record { is_void = true; name = name_f; params = (name_p ∷ []); vars = ((name_s, sort.Int) ∷ (name_t, sort.Int) ∷ (name_v, sort.Val) ∷ (name_w, sort.Val) ∷ (name_k, sort.List) ∷ (name_m, sort.List) ∷ []); pre = (record { opened = []; facts = ((Rel relation.Le (Number (pos 1)) (Var 1 sort.Int)) ∷ (Rel relation.Le (Of2 binary.Add (Var 1 sort.Int) (Number (pos 1))) (Var 0 sort.Int)) ∷ (Rel relation.Le (Of2 binary.Add (Var 0 sort.Int) (Var 1 sort.Int)) (Number (pos 64))) ∷ (Rel relation.Le (Number (pos 1)) (Of unary.Len (Var 4 sort.List))) ∷ []); locals = []; items = ((Lock (Var 0 sort.Int) (Var 2 sort.Val) (record { name = name_A; args = ((Number (pos 1)) ∷ []) })) ∷ (Lock (Var 1 sort.Int) (Var 2 sort.Val) (record { name = name_A; args = ((Number (pos 1)) ∷ []) })) ∷ []) }); post = (record { opened = []; facts = ([]); locals = []; items = ((Lock (Var 0 sort.Int) (Var 2 sort.Val) (record { name = name_A; args = ((Number (pos 1)) ∷ []) })) ∷ (Lock (Var 1 sort.Int) (Var 2 sort.Val) (record { name = name_A; args = ((Number (pos 1)) ∷ []) })) ∷ []) }) }) (record { temps = (name_p ∷ []); body = (c.Then (c.Return None) c.End) }) (s.Then 1 (s.Bounds 0 (Some 1) ([])) s.NoBlock (s.Then 2 (s.Have (Rel relation.Le (Of2 binary.Add (Named name_s) (Named name_t)) (Number (pos 64))) ([])) s.NoBlock (s.Then 3 (s.Return ([]) ([]) ([])) s.NoBlock s.End))) ≡ Accepted
unfolding computing
conditions_700 = refl
