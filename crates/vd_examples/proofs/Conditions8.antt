-- Each condition of each rule, where it holds and where it fails.
use Rattle.std.specs.Prelude.{◌≡◌, refl, pos, [], ◌∷◌, true, false, Some, None}
use Rattle.vd_terms.specs.Terms.{Number, Var, Named, Of, Of2}
use Rattle.vd_terms.specs.declared.assertion.FactOf.TheVariants.{Rel, IsPtr}
use Rattle.vd_terms.specs.declared.assertion.ItemOf.TheVariants.{Data, Lock, Holds}
use Rattle.vd_rules.specs.Computing.{computing}
use Rattle.vd_rules.specs.Verdicts.{Accepted, RefusedAt, body_verdict}
use Rattle.vd_terms.specs.declared.operation.Unary.TheVariants as unary
use Rattle.vd_terms.specs.declared.operation.Binary.TheVariants as binary
use Rattle.vd_logic.specs.declared.term.Sort.TheVariants as sort
use Rattle.vd_logic.specs.declared.assertion.Rel.TheVariants as relation
use Rattle.vd_logic.specs.declared.step.Occurrence.TheVariants as occurrence
use Rattle.vd_logic.specs.declared.step.Forgotten.TheVariants as forgotten
use Rattle.vd_steps.specs.Code as c
use Rattle.vd_steps.specs.Script as s
use Rattle.vd_examples.specs.Names.{name_A, name_f, name_j, name_k, name_m, name_p, name_s, name_t, name_v, name_w, name_x}

conditions_701 : body_verdict (record { predicates = ((record { name = name_A; args = (sort.Int ∷ []); cases = ((record { opened = []; facts = ([]); locals = []; items = ([]) }) ∷ []) }) ∷ []); specs = ((record { is_void = true; name = name_f; params = (name_p ∷ []); vars = ((name_s, sort.Int) ∷ (name_t, sort.Int) ∷ (name_v, sort.Val) ∷ (name_w, sort.Val) ∷ (name_k, sort.List) ∷ (name_m, sort.List) ∷ []); pre = (record { opened = []; facts = ((Rel relation.Le (Number (pos 1)) (Var 1 sort.Int)) ∷ (Rel relation.Le (Of2 binary.Add (Var 1 sort.Int) (Number (pos 1))) (Var 0 sort.Int)) ∷ (Rel relation.Le (Of2 binary.Add (Var 0 sort.Int) (Var 1 sort.Int)) (Number (pos 64))) ∷ (Rel relation.Le (Number (pos 1)) (Of unary.Len (Var 4 sort.List))) ∷ []); locals = []; items = ((Lock (Var 0 sort.Int) (Var 2 sort.Val) (record { name = name_A; args = ((Number (pos 1)) ∷ []) })) ∷ (Lock (Var 1 sort.Int) (Var 2 sort.Val) (record { name = name_A; args = ((Number (pos 1)) ∷ []) })) ∷ []) }); post = (record { opened = []; facts = ([]); locals = []; items = ((Lock (Var 0 sort.Int) (Var 2 sort.Val) (record { name = name_A; args = ((Number (pos 1)) ∷ []) })) ∷ (Lock (Var 1 sort.Int) (Var 2 sort.Val) (record { name = name_A; args = ((Number (pos 1)) ∷ []) })) ∷ []) }) }) ∷ []) }) (record { is_void = true; name = name_f; params = (name_p ∷ []); vars = ((name_s, sort.Int) ∷ (name_t, sort.Int) ∷ (name_v, sort.Val) ∷ (name_w, sort.Val) ∷ (name_k, sort.List) ∷ (name_m, sort.List) ∷ []); pre = (record { opened = []; facts = ((Rel relation.Le (Number (pos 1)) (Var 1 sort.Int)) ∷ (Rel relation.Le (Of2 binary.Add (Var 1 sort.Int) (Number (pos 1))) (Var 0 sort.Int)) ∷ (Rel relation.Le (Of2 binary.Add (Var 0 sort.Int) (Var 1 sort.Int)) (Number (pos 64))) ∷ (Rel relation.Le (Number (pos 1)) (Of unary.Len (Var 4 sort.List))) ∷ []); locals = []; items = ((Lock (Var 0 sort.Int) (Var 2 sort.Val) (record { name = name_A; args = ((Number (pos 1)) ∷ []) })) ∷ (Lock (Var 1 sort.Int) (Var 2 sort.Val) (record { name = name_A; args = ((Number (pos 1)) ∷ []) })) ∷ []) }); post = (record { opened = []; facts = ([]); locals = []; items = ((Lock (Var 0 sort.Int) (Var 2 sort.Val) (record { name = name_A; args = ((Number (pos 1)) ∷ []) })) ∷ (Lock (Var 1 sort.Int) (Var 2 sort.Val) (record { name = name_A; args = ((Number (pos 1)) ∷ []) })) ∷ []) }) }) (record { temps = (name_p ∷ []); body = (c.Then (c.Return None) c.End) }) (s.Then 1 (s.Bounds 0 (Some 1) ([])) s.NoBlock (s.Then 2 (s.Have (IsPtr (Named name_v)) ([])) s.NoBlock (s.Then 3 (s.Have (Rel relation.Le (Named name_s) (Number (pos 64))) ([])) s.NoBlock (s.Then 4 (s.Have (Rel relation.Le (Number (pos 1)) (Named name_s)) ([])) s.NoBlock (s.Then 5 (s.Return ([]) ([]) ([])) s.NoBlock s.End))))) ≡ (RefusedAt 2 25 3)
unfolding computing
conditions_701 = refl

conditions_702 : body_verdict (record { predicates = ((record { name = name_A; args = (sort.Int ∷ []); cases = ((record { opened = []; facts = ([]); locals = []; items = ([]) }) ∷ []) }) ∷ []); specs = ((record { is_void = true; name = name_f; params = (name_p ∷ []); vars = ((name_s, sort.Int) ∷ (name_t, sort.Int) ∷ (name_v, sort.Val) ∷ (name_w, sort.Val) ∷ (name_k, sort.List) ∷ (name_m, sort.List) ∷ []); pre = (record { opened = []; facts = ((Rel relation.Le (Number (pos 1)) (Var 1 sort.Int)) ∷ (Rel relation.Le (Of2 binary.Add (Var 1 sort.Int) (Number (pos 1))) (Var 0 sort.Int)) ∷ (Rel relation.Le (Of2 binary.Add (Var 0 sort.Int) (Var 1 sort.Int)) (Number (pos 65))) ∷ (Rel relation.Le (Number (pos 1)) (Of unary.Len (Var 4 sort.List))) ∷ []); locals = []; items = ((Lock (Var 0 sort.Int) (Var 2 sort.Val) (record { name = name_A; args = ((Number (pos 1)) ∷ []) })) ∷ (Lock (Var 1 sort.Int) (Var 2 sort.Val) (record { name = name_A; args = ((Number (pos 1)) ∷ []) })) ∷ []) }); post = (record { opened = []; facts = ([]); locals = []; items = ((Lock (Var 0 sort.Int) (Var 2 sort.Val) (record { name = name_A; args = ((Number (pos 1)) ∷ []) })) ∷ (Lock (Var 1 sort.Int) (Var 2 sort.Val) (record { name = name_A; args = ((Number (pos 1)) ∷ []) })) ∷ []) }) }) ∷ []) }) (record { is_void = true; name = name_f; params = (name_p ∷ []); vars = ((name_s, sort.Int) ∷ (name_t, sort.Int) ∷ (name_v, sort.Val) ∷ (name_w, sort.Val) ∷ (name_k, sort.List) ∷ (name_m, sort.List) ∷ []); pre = (record { opened = []; facts = ((Rel relation.Le (Number (pos 1)) (Var 1 sort.Int)) ∷ (Rel relation.Le (Of2 binary.Add (Var 1 sort.Int) (Number (pos 1))) (Var 0 sort.Int)) ∷ (Rel relation.Le (Of2 binary.Add (Var 0 sort.Int) (Var 1 sort.Int)) (Number (pos 65))) ∷ (Rel relation.Le (Number (pos 1)) (Of unary.Len (Var 4 sort.List))) ∷ []); locals = []; items = ((Lock (Var 0 sort.Int) (Var 2 sort.Val) (record { name = name_A; args = ((Number (pos 1)) ∷ []) })) ∷ (Lock (Var 1 sort.Int) (Var 2 sort.Val) (record { name = name_A; args = ((Number (pos 1)) ∷ []) })) ∷ []) }); post = (record { opened = []; facts = ([]); locals = []; items = ((Lock (Var 0 sort.Int) (Var 2 sort.Val) (record { name = name_A; args = ((Number (pos 1)) ∷ []) })) ∷ (Lock (Var 1 sort.Int) (Var 2 sort.Val) (record { name = name_A; args = ((Number (pos 1)) ∷ []) })) ∷ []) }) }) (record { temps = (name_p ∷ []); body = (c.Then (c.Return None) c.End) }) (s.Then 1 (s.Bounds 0 (Some 1) ([])) s.NoBlock (s.Then 2 (s.Return ([]) ([]) ([])) s.NoBlock s.End)) ≡ Accepted
unfolding computing
conditions_702 = refl

conditions_703 : body_verdict (record { predicates = ((record { name = name_A; args = (sort.Int ∷ []); cases = ((record { opened = []; facts = ([]); locals = []; items = ([]) }) ∷ []) }) ∷ []); specs = ((record { is_void = true; name = name_f; params = (name_p ∷ []); vars = ((name_s, sort.Int) ∷ (name_t, sort.Int) ∷ (name_v, sort.Val) ∷ (name_w, sort.Val) ∷ (name_k, sort.List) ∷ (name_m, sort.List) ∷ []); pre = (record { opened = []; facts = ((Rel relation.Le (Number (pos 1)) (Var 1 sort.Int)) ∷ (Rel relation.Le (Of2 binary.Add (Var 1 sort.Int) (Number (pos 1))) (Var 0 sort.Int)) ∷ (Rel relation.Le (Of2 binary.Add (Var 0 sort.Int) (Var 1 sort.Int)) (Number (pos 65))) ∷ (Rel relation.Le (Number (pos 1)) (Of unary.Len (Var 4 sort.List))) ∷ []); locals = []; items = ((Lock (Var 0 sort.Int) (Var 2 sort.Val) (record { name = name_A; args = ((Number (pos 1)) ∷ []) })) ∷ (Lock (Var 1 sort.Int) (Var 2 sort.Val) (record { name = name_A; args = ((Number (pos 1)) ∷ []) })) ∷ []) }); post = (record { opened = []; facts = ([]); locals = []; items = ((Lock (Var 0 sort.Int) (Var 2 sort.Val) (record { name = name_A; args = ((Number (pos 1)) ∷ []) })) ∷ (Lock (Var 1 sort.Int) (Var 2 sort.Val) (record { name = name_A; args = ((Number (pos 1)) ∷ []) })) ∷ []) }) }) ∷ []) }) (record { is_void = true; name = name_f; params = (name_p ∷ []); vars = ((name_s, sort.Int) ∷ (name_t, sort.Int) ∷ (name_v, sort.Val) ∷ (name_w, sort.Val) ∷ (name_k, sort.List) ∷ (name_m, sort.List) ∷ []); pre = (record { opened = []; facts = ((Rel relation.Le (Number (pos 1)) (Var 1 sort.Int)) ∷ (Rel relation.Le (Of2 binary.Add (Var 1 sort.Int) (Number (pos 1))) (Var 0 sort.Int)) ∷ (Rel relation.Le (Of2 binary.Add (Var 0 sort.Int) (Var 1 sort.Int)) (Number (pos 65))) ∷ (Rel relation.Le (Number (pos 1)) (Of unary.Len (Var 4 sort.List))) ∷ []); locals = []; items = ((Lock (Var 0 sort.Int) (Var 2 sort.Val) (record { name = name_A; args = ((Number (pos 1)) ∷ []) })) ∷ (Lock (Var 1 sort.Int) (Var 2 sort.Val) (record { name = name_A; args = ((Number (pos 1)) ∷ []) })) ∷ []) }); post = (record { opened = []; facts = ([]); locals = []; items = ((Lock (Var 0 sort.Int) (Var 2 sort.Val) (record { name = name_A; args = ((Number (pos 1)) ∷ []) })) ∷ (Lock (Var 1 sort.Int) (Var 2 sort.Val) (record { name = name_A; args = ((Number (pos 1)) ∷ []) })) ∷ []) }) }) (record { temps = (name_p ∷ []); body = (c.Then (c.Return None) c.End) }) (s.Then 1 (s.Bounds 0 (Some 1) ([])) s.NoBlock (s.Then 2 (s.Have (Rel relation.Le (Of2 binary.Add (Named name_s) (Named name_t)) (Number (pos 64))) ([])) s.NoBlock (s.Then 3 (s.Return ([]) ([]) ([])) s.NoBlock s.End))) ≡ Accepted
unfolding computing
conditions_703 = refl

conditions_704 : body_verdict (record { predicates = ((record { name = name_A; args = (sort.Int ∷ []); cases = ((record { opened = []; facts = ([]); locals = []; items = ([]) }) ∷ []) }) ∷ []); specs = ((record { is_void = true; name = name_f; params = (name_p ∷ []); vars = ((name_s, sort.Int) ∷ (name_t, sort.Int) ∷ (name_v, sort.Val) ∷ (name_w, sort.Val) ∷ (name_k, sort.List) ∷ (name_m, sort.List) ∷ []); pre = (record { opened = []; facts = ((Rel relation.Le (Number (pos 1)) (Var 1 sort.Int)) ∷ (Rel relation.Le (Of2 binary.Add (Var 1 sort.Int) (Number (pos 1))) (Var 0 sort.Int)) ∷ (Rel relation.Le (Of2 binary.Add (Var 0 sort.Int) (Var 1 sort.Int)) (Number (pos 65))) ∷ (Rel relation.Le (Number (pos 1)) (Of unary.Len (Var 4 sort.List))) ∷ []); locals = []; items = ((Lock (Var 0 sort.Int) (Var 2 sort.Val) (record { name = name_A; args = ((Number (pos 1)) ∷ []) })) ∷ (Lock (Var 1 sort.Int) (Var 2 sort.Val) (record { name = name_A; args = ((Number (pos 1)) ∷ []) })) ∷ []) }); post = (record { opened = []; facts = ([]); locals = []; items = ((Lock (Var 0 sort.Int) (Var 2 sort.Val) (record { name = name_A; args = ((Number (pos 1)) ∷ []) })) ∷ (Lock (Var 1 sort.Int) (Var 2 sort.Val) (record { name = name_A; args = ((Number (pos 1)) ∷ []) })) ∷ []) }) }) ∷ []) }) (record { is_void = true; name = name_f; params = (name_p ∷ []); vars = ((name_s, sort.Int) ∷ (name_t, sort.Int) ∷ (name_v, sort.Val) ∷ (name_w, sort.Val) ∷ (name_k, sort.List) ∷ (name_m, sort.List) ∷ []); pre = (record { opened = []; facts = ((Rel relation.Le (Number (pos 1)) (Var 1 sort.Int)) ∷ (Rel relation.Le (Of2 binary.Add (Var 1 sort.Int) (Number (pos 1))) (Var 0 sort.Int)) ∷ (Rel relation.Le (Of2 binary.Add (Var 0 sort.Int) (Var 1 sort.Int)) (Number (pos 65))) ∷ (Rel relation.Le (Number (pos 1)) (Of unary.Len (Var 4 sort.List))) ∷ []); locals = []; items = ((Lock (Var 0 sort.Int) (Var 2 sort.Val) (record { name = name_A; args = ((Number (pos 1)) ∷ []) })) ∷ (Lock (Var 1 sort.Int) (Var 2 sort.Val) (record { name = name_A; args = ((Number (pos 1)) ∷ []) })) ∷ []) }); post = (record { opened = []; facts = ([]); locals = []; items = ((Lock (Var 0 sort.Int) (Var 2 sort.Val) (record { name = name_A; args = ((Number (pos 1)) ∷ []) })) ∷ (Lock (Var 1 sort.Int) (Var 2 sort.Val) (record { name = name_A; args = ((Number (pos 1)) ∷ []) })) ∷ []) }) }) (record { temps = (name_p ∷ []); body = (c.Then (c.Return None) c.End) }) (s.Then 1 (s.Bounds 0 (Some 1) ([])) s.NoBlock (s.Then 2 (s.Have (IsPtr (Named name_v)) ([])) s.NoBlock (s.Then 3 (s.Have (Rel relation.Le (Named name_s) (Number (pos 64))) ([])) s.NoBlock (s.Then 4 (s.Have (Rel relation.Le (Number (pos 1)) (Named name_s)) ([])) s.NoBlock (s.Then 5 (s.Return ([]) ([]) ([])) s.NoBlock s.End))))) ≡ (RefusedAt 2 25 3)
unfolding computing
conditions_704 = refl

conditions_705 : body_verdict (record { predicates = ((record { name = name_A; args = (sort.Int ∷ []); cases = ((record { opened = []; facts = ([]); locals = []; items = ([]) }) ∷ []) }) ∷ []); specs = ((record { is_void = true; name = name_f; params = (name_p ∷ []); vars = ((name_s, sort.Int) ∷ (name_t, sort.Int) ∷ (name_v, sort.Val) ∷ (name_w, sort.Val) ∷ (name_k, sort.List) ∷ (name_m, sort.List) ∷ []); pre = (record { opened = []; facts = ([]); locals = []; items = ((Lock (Var 0 sort.Int) (Var 2 sort.Val) (record { name = name_A; args = ((Number (pos 1)) ∷ []) })) ∷ (Data (Var 1 sort.Int) (Var 2 sort.Val) (Var 4 sort.List)) ∷ []) }); post = (record { opened = []; facts = ([]); locals = []; items = ((Lock (Var 0 sort.Int) (Var 2 sort.Val) (record { name = name_A; args = ((Number (pos 1)) ∷ []) })) ∷ (Data (Var 1 sort.Int) (Var 2 sort.Val) (Var 4 sort.List)) ∷ []) }) }) ∷ []) }) (record { is_void = true; name = name_f; params = (name_p ∷ []); vars = ((name_s, sort.Int) ∷ (name_t, sort.Int) ∷ (name_v, sort.Val) ∷ (name_w, sort.Val) ∷ (name_k, sort.List) ∷ (name_m, sort.List) ∷ []); pre = (record { opened = []; facts = ([]); locals = []; items = ((Lock (Var 0 sort.Int) (Var 2 sort.Val) (record { name = name_A; args = ((Number (pos 1)) ∷ []) })) ∷ (Data (Var 1 sort.Int) (Var 2 sort.Val) (Var 4 sort.List)) ∷ []) }); post = (record { opened = []; facts = ([]); locals = []; items = ((Lock (Var 0 sort.Int) (Var 2 sort.Val) (record { name = name_A; args = ((Number (pos 1)) ∷ []) })) ∷ (Data (Var 1 sort.Int) (Var 2 sort.Val) (Var 4 sort.List)) ∷ []) }) }) (record { temps = (name_p ∷ []); body = (c.Then (c.Return None) c.End) }) (s.Then 1 (s.Bounds 0 (Some 1) ([])) s.NoBlock (s.Then 2 (s.Return ([]) ([]) ([])) s.NoBlock s.End)) ≡ (RefusedAt 1 34 3)
unfolding computing
conditions_705 = refl

conditions_706 : body_verdict (record { predicates = ((record { name = name_A; args = (sort.Int ∷ []); cases = ((record { opened = []; facts = ([]); locals = []; items = ([]) }) ∷ []) }) ∷ []); specs = ((record { is_void = true; name = name_f; params = (name_p ∷ []); vars = ((name_s, sort.Int) ∷ (name_t, sort.Int) ∷ (name_v, sort.Val) ∷ (name_w, sort.Val) ∷ (name_k, sort.List) ∷ (name_m, sort.List) ∷ []); pre = (record { opened = []; facts = ([]); locals = []; items = ((Lock (Var 0 sort.Int) (Var 2 sort.Val) (record { name = name_A; args = ((Number (pos 1)) ∷ []) })) ∷ (Data (Var 1 sort.Int) (Var 2 sort.Val) (Var 4 sort.List)) ∷ []) }); post = (record { opened = []; facts = ([]); locals = []; items = ((Lock (Var 0 sort.Int) (Var 2 sort.Val) (record { name = name_A; args = ((Number (pos 1)) ∷ []) })) ∷ (Data (Var 1 sort.Int) (Var 2 sort.Val) (Var 4 sort.List)) ∷ []) }) }) ∷ []) }) (record { is_void = true; name = name_f; params = (name_p ∷ []); vars = ((name_s, sort.Int) ∷ (name_t, sort.Int) ∷ (name_v, sort.Val) ∷ (name_w, sort.Val) ∷ (name_k, sort.List) ∷ (name_m, sort.List) ∷ []); pre = (record { opened = []; facts = ([]); locals = []; items = ((Lock (Var 0 sort.Int) (Var 2 sort.Val) (record { name = name_A; args = ((Number (pos 1)) ∷ []) })) ∷ (Data (Var 1 sort.Int) (Var 2 sort.Val) (Var 4 sort.List)) ∷ []) }); post = (record { opened = []; facts = ([]); locals = []; items = ((Lock (Var 0 sort.Int) (Var 2 sort.Val) (record { name = name_A; args = ((Number (pos 1)) ∷ []) })) ∷ (Data (Var 1 sort.Int) (Var 2 sort.Val) (Var 4 sort.List)) ∷ []) }) }) (record { temps = (name_p ∷ []); body = (c.Then (c.Return None) c.End) }) (s.Then 1 (s.Bounds 0 (Some 1) ([])) s.NoBlock (s.Then 2 (s.Have (Rel relation.Le (Of2 binary.Add (Named name_s) (Named name_t)) (Number (pos 64))) ([])) s.NoBlock (s.Then 3 (s.Return ([]) ([]) ([])) s.NoBlock s.End))) ≡ (RefusedAt 1 34 3)
unfolding computing
conditions_706 = refl

conditions_707 : body_verdict (record { predicates = ((record { name = name_A; args = (sort.Int ∷ []); cases = ((record { opened = []; facts = ([]); locals = []; items = ([]) }) ∷ []) }) ∷ []); specs = ((record { is_void = true; name = name_f; params = (name_p ∷ []); vars = ((name_s, sort.Int) ∷ (name_t, sort.Int) ∷ (name_v, sort.Val) ∷ (name_w, sort.Val) ∷ (name_k, sort.List) ∷ (name_m, sort.List) ∷ []); pre = (record { opened = []; facts = ([]); locals = []; items = ((Lock (Var 0 sort.Int) (Var 2 sort.Val) (record { name = name_A; args = ((Number (pos 1)) ∷ []) })) ∷ (Data (Var 1 sort.Int) (Var 2 sort.Val) (Var 4 sort.List)) ∷ []) }); post = (record { opened = []; facts = ([]); locals = []; items = ((Lock (Var 0 sort.Int) (Var 2 sort.Val) (record { name = name_A; args = ((Number (pos 1)) ∷ []) })) ∷ (Data (Var 1 sort.Int) (Var 2 sort.Val) (Var 4 sort.List)) ∷ []) }) }) ∷ []) }) (record { is_void = true; name = name_f; params = (name_p ∷ []); vars = ((name_s, sort.Int) ∷ (name_t, sort.Int) ∷ (name_v, sort.Val) ∷ (name_w, sort.Val) ∷ (name_k, sort.List) ∷ (name_m, sort.List) ∷ []); pre = (record { opened = []; facts = ([]); locals = []; items = ((Lock (Var 0 sort.Int) (Var 2 sort.Val) (record { name = name_A; args = ((Number (pos 1)) ∷ []) })) ∷ (Data (Var 1 sort.Int) (Var 2 sort.Val) (Var 4 sort.List)) ∷ []) }); post = (record { opened = []; facts = ([]); locals = []; items = ((Lock (Var 0 sort.Int) (Var 2 sort.Val) (record { name = name_A; args = ((Number (pos 1)) ∷ []) })) ∷ (Data (Var 1 sort.Int) (Var 2 sort.Val) (Var 4 sort.List)) ∷ []) }) }) (record { temps = (name_p ∷ []); body = (c.Then (c.Return None) c.End) }) (s.Then 1 (s.Bounds 0 (Some 1) ([])) s.NoBlock (s.Then 2 (s.Have (IsPtr (Named name_v)) ([])) s.NoBlock (s.Then 3 (s.Have (Rel relation.Le (Named name_s) (Number (pos 64))) ([])) s.NoBlock (s.Then 4 (s.Have (Rel relation.Le (Number (pos 1)) (Named name_s)) ([])) s.NoBlock (s.Then 5 (s.Return ([]) ([]) ([])) s.NoBlock s.End))))) ≡ (RefusedAt 1 34 3)
unfolding computing
conditions_707 = refl

conditions_708 : body_verdict (record { predicates = ((record { name = name_A; args = (sort.Int ∷ []); cases = ((record { opened = []; facts = ([]); locals = []; items = ([]) }) ∷ []) }) ∷ []); specs = ((record { is_void = true; name = name_f; params = (name_p ∷ []); vars = ((name_s, sort.Int) ∷ (name_t, sort.Int) ∷ (name_v, sort.Val) ∷ (name_w, sort.Val) ∷ (name_k, sort.List) ∷ (name_m, sort.List) ∷ []); pre = (record { opened = []; facts = ((Rel relation.Le (Number (pos 1)) (Var 1 sort.Int)) ∷ (Rel relation.Le (Of2 binary.Add (Var 1 sort.Int) (Number (pos 1))) (Var 0 sort.Int)) ∷ (Rel relation.Le (Of2 binary.Add (Var 0 sort.Int) (Var 1 sort.Int)) (Number (pos 64))) ∷ (Rel relation.Le (Number (pos 1)) (Of unary.Len (Var 4 sort.List))) ∷ []); locals = []; items = ((Lock (Var 0 sort.Int) (Var 2 sort.Val) (record { name = name_A; args = ((Number (pos 1)) ∷ []) })) ∷ (Data (Var 1 sort.Int) (Var 2 sort.Val) (Var 4 sort.List)) ∷ []) }); post = (record { opened = []; facts = ([]); locals = []; items = ((Lock (Var 0 sort.Int) (Var 2 sort.Val) (record { name = name_A; args = ((Number (pos 1)) ∷ []) })) ∷ (Data (Var 1 sort.Int) (Var 2 sort.Val) (Var 4 sort.List)) ∷ []) }) }) ∷ []) }) (record { is_void = true; name = name_f; params = (name_p ∷ []); vars = ((name_s, sort.Int) ∷ (name_t, sort.Int) ∷ (name_v, sort.Val) ∷ (name_w, sort.Val) ∷ (name_k, sort.List) ∷ (name_m, sort.List) ∷ []); pre = (record { opened = []; facts = ((Rel relation.Le (Number (pos 1)) (Var 1 sort.Int)) ∷ (Rel relation.Le (Of2 binary.Add (Var 1 sort.Int) (Number (pos 1))) (Var 0 sort.Int)) ∷ (Rel relation.Le (Of2 binary.Add (Var 0 sort.Int) (Var 1 sort.Int)) (Number (pos 64))) ∷ (Rel relation.Le (Number (pos 1)) (Of unary.Len (Var 4 sort.List))) ∷ []); locals = []; items = ((Lock (Var 0 sort.Int) (Var 2 sort.Val) (record { name = name_A; args = ((Number (pos 1)) ∷ []) })) ∷ (Data (Var 1 sort.Int) (Var 2 sort.Val) (Var 4 sort.List)) ∷ []) }); post = (record { opened = []; facts = ([]); locals = []; items = ((Lock (Var 0 sort.Int) (Var 2 sort.Val) (record { name = name_A; args = ((Number (pos 1)) ∷ []) })) ∷ (Data (Var 1 sort.Int) (Var 2 sort.Val) (Var 4 sort.List)) ∷ []) }) }) (record { temps = (name_p ∷ []); body = (c.Then (c.Return None) c.End) }) (s.Then 1 (s.Bounds 0 (Some 1) ([])) s.NoBlock (s.Then 2 (s.Return ([]) ([]) ([])) s.NoBlock s.End)) ≡ Accepted
unfolding computing
conditions_708 = refl

conditions_709 : body_verdict (record { predicates = ((record { name = name_A; args = (sort.Int ∷ []); cases = ((record { opened = []; facts = ([]); locals = []; items = ([]) }) ∷ []) }) ∷ []); specs = ((record { is_void = true; name = name_f; params = (name_p ∷ []); vars = ((name_s, sort.Int) ∷ (name_t, sort.Int) ∷ (name_v, sort.Val) ∷ (name_w, sort.Val) ∷ (name_k, sort.List) ∷ (name_m, sort.List) ∷ []); pre = (record { opened = []; facts = ((Rel relation.Le (Number (pos 1)) (Var 1 sort.Int)) ∷ (Rel relation.Le (Of2 binary.Add (Var 1 sort.Int) (Number (pos 1))) (Var 0 sort.Int)) ∷ (Rel relation.Le (Of2 binary.Add (Var 0 sort.Int) (Var 1 sort.Int)) (Number (pos 64))) ∷ (Rel relation.Le (Number (pos 1)) (Of unary.Len (Var 4 sort.List))) ∷ []); locals = []; items = ((Lock (Var 0 sort.Int) (Var 2 sort.Val) (record { name = name_A; args = ((Number (pos 1)) ∷ []) })) ∷ (Data (Var 1 sort.Int) (Var 2 sort.Val) (Var 4 sort.List)) ∷ []) }); post = (record { opened = []; facts = ([]); locals = []; items = ((Lock (Var 0 sort.Int) (Var 2 sort.Val) (record { name = name_A; args = ((Number (pos 1)) ∷ []) })) ∷ (Data (Var 1 sort.Int) (Var 2 sort.Val) (Var 4 sort.List)) ∷ []) }) }) ∷ []) }) (record { is_void = true; name = name_f; params = (name_p ∷ []); vars = ((name_s, sort.Int) ∷ (name_t, sort.Int) ∷ (name_v, sort.Val) ∷ (name_w, sort.Val) ∷ (name_k, sort.List) ∷ (name_m, sort.List) ∷ []); pre = (record { opened = []; facts = ((Rel relation.Le (Number (pos 1)) (Var 1 sort.Int)) ∷ (Rel relation.Le (Of2 binary.Add (Var 1 sort.Int) (Number (pos 1))) (Var 0 sort.Int)) ∷ (Rel relation.Le (Of2 binary.Add (Var 0 sort.Int) (Var 1 sort.Int)) (Number (pos 64))) ∷ (Rel relation.Le (Number (pos 1)) (Of unary.Len (Var 4 sort.List))) ∷ []); locals = []; items = ((Lock (Var 0 sort.Int) (Var 2 sort.Val) (record { name = name_A; args = ((Number (pos 1)) ∷ []) })) ∷ (Data (Var 1 sort.Int) (Var 2 sort.Val) (Var 4 sort.List)) ∷ []) }); post = (record { opened = []; facts = ([]); locals = []; items = ((Lock (Var 0 sort.Int) (Var 2 sort.Val) (record { name = name_A; args = ((Number (pos 1)) ∷ []) })) ∷ (Data (Var 1 sort.Int) (Var 2 sort.Val) (Var 4 sort.List)) ∷ []) }) }) (record { temps = (name_p ∷ []); body = (c.Then (c.Return None) c.End) }) (s.Then 1 (s.Bounds 0 (Some 1) ([])) s.NoBlock (s.Then 2 (s.Have (Rel relation.Le (Of2 binary.Add (Named name_s) (Named name_t)) (Number (pos 64))) ([])) s.NoBlock (s.Then 3 (s.Return ([]) ([]) ([])) s.NoBlock s.End))) ≡ Accepted
unfolding computing
conditions_709 = refl

conditions_710 : body_verdict (record { predicates = ((record { name = name_A; args = (sort.Int ∷ []); cases = ((record { opened = []; facts = ([]); locals = []; items = ([]) }) ∷ []) }) ∷ []); specs = ((record { is_void = true; name = name_f; params = (name_p ∷ []); vars = ((name_s, sort.Int) ∷ (name_t, sort.Int) ∷ (name_v, sort.Val) ∷ (name_w, sort.Val) ∷ (name_k, sort.List) ∷ (name_m, sort.List) ∷ []); pre = (record { opened = []; facts = ((Rel relation.Le (Number (pos 1)) (Var 1 sort.Int)) ∷ (Rel relation.Le (Of2 binary.Add (Var 1 sort.Int) (Number (pos 1))) (Var 0 sort.Int)) ∷ (Rel relation.Le (Of2 binary.Add (Var 0 sort.Int) (Var 1 sort.Int)) (Number (pos 64))) ∷ (Rel relation.Le (Number (pos 1)) (Of unary.Len (Var 4 sort.List))) ∷ []); locals = []; items = ((Lock (Var 0 sort.Int) (Var 2 sort.Val) (record { name = name_A; args = ((Number (pos 1)) ∷ []) })) ∷ (Data (Var 1 sort.Int) (Var 2 sort.Val) (Var 4 sort.List)) ∷ []) }); post = (record { opened = []; facts = ([]); locals = []; items = ((Lock (Var 0 sort.Int) (Var 2 sort.Val) (record { name = name_A; args = ((Number (pos 1)) ∷ []) })) ∷ (Data (Var 1 sort.Int) (Var 2 sort.Val) (Var 4 sort.List)) ∷ []) }) }) ∷ []) }) (record { is_void = true; name = name_f; params = (name_p ∷ []); vars = ((name_s, sort.Int) ∷ (name_t, sort.Int) ∷ (name_v, sort.Val) ∷ (name_w, sort.Val) ∷ (name_k, sort.List) ∷ (name_m, sort.List) ∷ []); pre = (record { opened = []; facts = ((Rel relation.Le (Number (pos 1)) (Var 1 sort.Int)) ∷ (Rel relation.Le (Of2 binary.Add (Var 1 sort.Int) (Number (pos 1))) (Var 0 sort.Int)) ∷ (Rel relation.Le (Of2 binary.Add (Var 0 sort.Int) (Var 1 sort.Int)) (Number (pos 64))) ∷ (Rel relation.Le (Number (pos 1)) (Of unary.Len (Var 4 sort.List))) ∷ []); locals = []; items = ((Lock (Var 0 sort.Int) (Var 2 sort.Val) (record { name = name_A; args = ((Number (pos 1)) ∷ []) })) ∷ (Data (Var 1 sort.Int) (Var 2 sort.Val) (Var 4 sort.List)) ∷ []) }); post = (record { opened = []; facts = ([]); locals = []; items = ((Lock (Var 0 sort.Int) (Var 2 sort.Val) (record { name = name_A; args = ((Number (pos 1)) ∷ []) })) ∷ (Data (Var 1 sort.Int) (Var 2 sort.Val) (Var 4 sort.List)) ∷ []) }) }) (record { temps = (name_p ∷ []); body = (c.Then (c.Return None) c.End) }) (s.Then 1 (s.Bounds 0 (Some 1) ([])) s.NoBlock (s.Then 2 (s.Have (IsPtr (Named name_v)) ([])) s.NoBlock (s.Then 3 (s.Have (Rel relation.Le (Named name_s) (Number (pos 64))) ([])) s.NoBlock (s.Then 4 (s.Have (Rel relation.Le (Number (pos 1)) (Named name_s)) ([])) s.NoBlock (s.Then 5 (s.Return ([]) ([]) ([])) s.NoBlock s.End))))) ≡ (RefusedAt 2 25 3)
unfolding computing
conditions_710 = refl

conditions_711 : body_verdict (record { predicates = ((record { name = name_A; args = (sort.Int ∷ []); cases = ((record { opened = []; facts = ([]); locals = []; items = ([]) }) ∷ []) }) ∷ []); specs = ((record { is_void = true; name = name_f; params = (name_p ∷ []); vars = ((name_s, sort.Int) ∷ (name_t, sort.Int) ∷ (name_v, sort.Val) ∷ (name_w, sort.Val) ∷ (name_k, sort.List) ∷ (name_m, sort.List) ∷ []); pre = (record { opened = []; facts = ((Rel relation.Le (Number (pos 1)) (Var 1 sort.Int)) ∷ (Rel relation.Le (Of2 binary.Add (Var 1 sort.Int) (Number (pos 1))) (Var 0 sort.Int)) ∷ (Rel relation.Le (Of2 binary.Add (Var 0 sort.Int) (Var 1 sort.Int)) (Number (pos 65))) ∷ (Rel relation.Le (Number (pos 1)) (Of unary.Len (Var 4 sort.List))) ∷ []); locals = []; items = ((Lock (Var 0 sort.Int) (Var 2 sort.Val) (record { name = name_A; args = ((Number (pos 1)) ∷ []) })) ∷ (Data (Var 1 sort.Int) (Var 2 sort.Val) (Var 4 sort.List)) ∷ []) }); post = (record { opened = []; facts = ([]); locals = []; items = ((Lock (Var 0 sort.Int) (Var 2 sort.Val) (record { name = name_A; args = ((Number (pos 1)) ∷ []) })) ∷ (Data (Var 1 sort.Int) (Var 2 sort.Val) (Var 4 sort.List)) ∷ []) }) }) ∷ []) }) (record { is_void = true; name = name_f; params = (name_p ∷ []); vars = ((name_s, sort.Int) ∷ (name_t, sort.Int) ∷ (name_v, sort.Val) ∷ (name_w, sort.Val) ∷ (name_k, sort.List) ∷ (name_m, sort.List) ∷ []); pre = (record { opened = []; facts = ((Rel relation.Le (Number (pos 1)) (Var 1 sort.Int)) ∷ (Rel relation.Le (Of2 binary.Add (Var 1 sort.Int) (Number (pos 1))) (Var 0 sort.Int)) ∷ (Rel relation.Le (Of2 binary.Add (Var 0 sort.Int) (Var 1 sort.Int)) (Number (pos 65))) ∷ (Rel relation.Le (Number (pos 1)) (Of unary.Len (Var 4 sort.List))) ∷ []); locals = []; items = ((Lock (Var 0 sort.Int) (Var 2 sort.Val) (record { name = name_A; args = ((Number (pos 1)) ∷ []) })) ∷ (Data (Var 1 sort.Int) (Var 2 sort.Val) (Var 4 sort.List)) ∷ []) }); post = (record { opened = []; facts = ([]); locals = []; items = ((Lock (Var 0 sort.Int) (Var 2 sort.Val) (record { name = name_A; args = ((Number (pos 1)) ∷ []) })) ∷ (Data (Var 1 sort.Int) (Var 2 sort.Val) (Var 4 sort.List)) ∷ []) }) }) (record { temps = (name_p ∷ []); body = (c.Then (c.Return None) c.End) }) (s.Then 1 (s.Bounds 0 (Some 1) ([])) s.NoBlock (s.Then 2 (s.Return ([]) ([]) ([])) s.NoBlock s.End)) ≡ Accepted
unfolding computing
conditions_711 = refl

conditions_712 : body_verdict (record { predicates = ((record { name = name_A; args = (sort.Int ∷ []); cases = ((record { opened = []; facts = ([]); locals = []; items = ([]) }) ∷ []) }) ∷ []); specs = ((record { is_void = true; name = name_f; params = (name_p ∷ []); vars = ((name_s, sort.Int) ∷ (name_t, sort.Int) ∷ (name_v, sort.Val) ∷ (name_w, sort.Val) ∷ (name_k, sort.List) ∷ (name_m, sort.List) ∷ []); pre = (record { opened = []; facts = ((Rel relation.Le (Number (pos 1)) (Var 1 sort.Int)) ∷ (Rel relation.Le (Of2 binary.Add (Var 1 sort.Int) (Number (pos 1))) (Var 0 sort.Int)) ∷ (Rel relation.Le (Of2 binary.Add (Var 0 sort.Int) (Var 1 sort.Int)) (Number (pos 65))) ∷ (Rel relation.Le (Number (pos 1)) (Of unary.Len (Var 4 sort.List))) ∷ []); locals = []; items = ((Lock (Var 0 sort.Int) (Var 2 sort.Val) (record { name = name_A; args = ((Number (pos 1)) ∷ []) })) ∷ (Data (Var 1 sort.Int) (Var 2 sort.Val) (Var 4 sort.List)) ∷ []) }); post = (record { opened = []; facts = ([]); locals = []; items = ((Lock (Var 0 sort.Int) (Var 2 sort.Val) (record { name = name_A; args = ((Number (pos 1)) ∷ []) })) ∷ (Data (Var 1 sort.Int) (Var 2 sort.Val) (Var 4 sort.List)) ∷ []) }) }) ∷ []) }) (record { is_void = true; name = name_f; params = (name_p ∷ []); vars = ((name_s, sort.Int) ∷ (name_t, sort.Int) ∷ (name_v, sort.Val) ∷ (name_w, sort.Val) ∷ (name_k, sort.List) ∷ (name_m, sort.List) ∷ []); pre = (record { opened = []; facts = ((Rel relation.Le (Number (pos 1)) (Var 1 sort.Int)) ∷ (Rel relation.Le (Of2 binary.Add (Var 1 sort.Int) (Number (pos 1))) (Var 0 sort.Int)) ∷ (Rel relation.Le (Of2 binary.Add (Var 0 sort.Int) (Var 1 sort.Int)) (Number (pos 65))) ∷ (Rel relation.Le (Number (pos 1)) (Of unary.Len (Var 4 sort.List))) ∷ []); locals = []; items = ((Lock (Var 0 sort.Int) (Var 2 sort.Val) (record { name = name_A; args = ((Number (pos 1)) ∷ []) })) ∷ (Data (Var 1 sort.Int) (Var 2 sort.Val) (Var 4 sort.List)) ∷ []) }); post = (record { opened = []; facts = ([]); locals = []; items = ((Lock (Var 0 sort.Int) (Var 2 sort.Val) (record { name = name_A; args = ((Number (pos 1)) ∷ []) })) ∷ (Data (Var 1 sort.Int) (Var 2 sort.Val) (Var 4 sort.List)) ∷ []) }) }) (record { temps = (name_p ∷ []); body = (c.Then (c.Return None) c.End) }) (s.Then 1 (s.Bounds 0 (Some 1) ([])) s.NoBlock (s.Then 2 (s.Have (Rel relation.Le (Of2 binary.Add (Named name_s) (Named name_t)) (Number (pos 64))) ([])) s.NoBlock (s.Then 3 (s.Return ([]) ([]) ([])) s.NoBlock s.End))) ≡ Accepted
unfolding computing
conditions_712 = refl

conditions_713 : body_verdict (record { predicates = ((record { name = name_A; args = (sort.Int ∷ []); cases = ((record { opened = []; facts = ([]); locals = []; items = ([]) }) ∷ []) }) ∷ []); specs = ((record { is_void = true; name = name_f; params = (name_p ∷ []); vars = ((name_s, sort.Int) ∷ (name_t, sort.Int) ∷ (name_v, sort.Val) ∷ (name_w, sort.Val) ∷ (name_k, sort.List) ∷ (name_m, sort.List) ∷ []); pre = (record { opened = []; facts = ((Rel relation.Le (Number (pos 1)) (Var 1 sort.Int)) ∷ (Rel relation.Le (Of2 binary.Add (Var 1 sort.Int) (Number (pos 1))) (Var 0 sort.Int)) ∷ (Rel relation.Le (Of2 binary.Add (Var 0 sort.Int) (Var 1 sort.Int)) (Number (pos 65))) ∷ (Rel relation.Le (Number (pos 1)) (Of unary.Len (Var 4 sort.List))) ∷ []); locals = []; items = ((Lock (Var 0 sort.Int) (Var 2 sort.Val) (record { name = name_A; args = ((Number (pos 1)) ∷ []) })) ∷ (Data (Var 1 sort.Int) (Var 2 sort.Val) (Var 4 sort.List)) ∷ []) }); post = (record { opened = []; facts = ([]); locals = []; items = ((Lock (Var 0 sort.Int) (Var 2 sort.Val) (record { name = name_A; args = ((Number (pos 1)) ∷ []) })) ∷ (Data (Var 1 sort.Int) (Var 2 sort.Val) (Var 4 sort.List)) ∷ []) }) }) ∷ []) }) (record { is_void = true; name = name_f; params = (name_p ∷ []); vars = ((name_s, sort.Int) ∷ (name_t, sort.Int) ∷ (name_v, sort.Val) ∷ (name_w, sort.Val) ∷ (name_k, sort.List) ∷ (name_m, sort.List) ∷ []); pre = (record { opened = []; facts = ((Rel relation.Le (Number (pos 1)) (Var 1 sort.Int)) ∷ (Rel relation.Le (Of2 binary.Add (Var 1 sort.Int) (Number (pos 1))) (Var 0 sort.Int)) ∷ (Rel relation.Le (Of2 binary.Add (Var 0 sort.Int) (Var 1 sort.Int)) (Number (pos 65))) ∷ (Rel relation.Le (Number (pos 1)) (Of unary.Len (Var 4 sort.List))) ∷ []); locals = []; items = ((Lock (Var 0 sort.Int) (Var 2 sort.Val) (record { name = name_A; args = ((Number (pos 1)) ∷ []) })) ∷ (Data (Var 1 sort.Int) (Var 2 sort.Val) (Var 4 sort.List)) ∷ []) }); post = (record { opened = []; facts = ([]); locals = []; items = ((Lock (Var 0 sort.Int) (Var 2 sort.Val) (record { name = name_A; args = ((Number (pos 1)) ∷ []) })) ∷ (Data (Var 1 sort.Int) (Var 2 sort.Val) (Var 4 sort.List)) ∷ []) }) }) (record { temps = (name_p ∷ []); body = (c.Then (c.Return None) c.End) }) (s.Then 1 (s.Bounds 0 (Some 1) ([])) s.NoBlock (s.Then 2 (s.Have (IsPtr (Named name_v)) ([])) s.NoBlock (s.Then 3 (s.Have (Rel relation.Le (Named name_s) (Number (pos 64))) ([])) s.NoBlock (s.Then 4 (s.Have (Rel relation.Le (Number (pos 1)) (Named name_s)) ([])) s.NoBlock (s.Then 5 (s.Return ([]) ([]) ([])) s.NoBlock s.End))))) ≡ (RefusedAt 2 25 3)
unfolding computing
conditions_713 = refl

conditions_714 : body_verdict (record { predicates = ((record { name = name_A; args = (sort.Int ∷ []); cases = ((record { opened = []; facts = ([]); locals = []; items = ([]) }) ∷ []) }) ∷ []); specs = ((record { is_void = true; name = name_f; params = (name_p ∷ []); vars = ((name_s, sort.Int) ∷ (name_t, sort.Int) ∷ (name_v, sort.Val) ∷ (name_w, sort.Val) ∷ (name_k, sort.List) ∷ (name_m, sort.List) ∷ []); pre = (record { opened = []; facts = ([]); locals = []; items = ((Holds (Var 2 sort.Val) (record { name = name_A; args = ((Number (pos 1)) ∷ []) })) ∷ []) }); post = (record { opened = []; facts = ([]); locals = []; items = ((Holds (Var 2 sort.Val) (record { name = name_A; args = ((Number (pos 1)) ∷ []) })) ∷ []) }) }) ∷ []) }) (record { is_void = true; name = name_f; params = (name_p ∷ []); vars = ((name_s, sort.Int) ∷ (name_t, sort.Int) ∷ (name_v, sort.Val) ∷ (name_w, sort.Val) ∷ (name_k, sort.List) ∷ (name_m, sort.List) ∷ []); pre = (record { opened = []; facts = ([]); locals = []; items = ((Holds (Var 2 sort.Val) (record { name = name_A; args = ((Number (pos 1)) ∷ []) })) ∷ []) }); post = (record { opened = []; facts = ([]); locals = []; items = ((Holds (Var 2 sort.Val) (record { name = name_A; args = ((Number (pos 1)) ∷ []) })) ∷ []) }) }) (record { temps = (name_p ∷ []); body = (c.Then (c.Return None) c.End) }) (s.Then 1 (s.Bounds 0 None ([])) s.NoBlock (s.Then 2 (s.Return ([]) ([]) ([])) s.NoBlock s.End)) ≡ (RefusedAt 1 34 1)
unfolding computing
conditions_714 = refl

conditions_715 : body_verdict (record { predicates = ((record { name = name_A; args = (sort.Int ∷ []); cases = ((record { opened = []; facts = ([]); locals = []; items = ([]) }) ∷ []) }) ∷ []); specs = ((record { is_void = true; name = name_f; params = (name_p ∷ []); vars = ((name_s, sort.Int) ∷ (name_t, sort.Int) ∷ (name_v, sort.Val) ∷ (name_w, sort.Val) ∷ (name_k, sort.List) ∷ (name_m, sort.List) ∷ []); pre = (record { opened = []; facts = ([]); locals = []; items = ((Holds (Var 2 sort.Val) (record { name = name_A; args = ((Number (pos 1)) ∷ []) })) ∷ []) }); post = (record { opened = []; facts = ([]); locals = []; items = ((Holds (Var 2 sort.Val) (record { name = name_A; args = ((Number (pos 1)) ∷ []) })) ∷ []) }) }) ∷ []) }) (record { is_void = true; name = name_f; params = (name_p ∷ []); vars = ((name_s, sort.Int) ∷ (name_t, sort.Int) ∷ (name_v, sort.Val) ∷ (name_w, sort.Val) ∷ (name_k, sort.List) ∷ (name_m, sort.List) ∷ []); pre = (record { opened = []; facts = ([]); locals = []; items = ((Holds (Var 2 sort.Val) (record { name = name_A; args = ((Number (pos 1)) ∷ []) })) ∷ []) }); post = (record { opened = []; facts = ([]); locals = []; items = ((Holds (Var 2 sort.Val) (record { name = name_A; args = ((Number (pos 1)) ∷ []) })) ∷ []) }) }) (record { temps = (name_p ∷ []); body = (c.Then (c.Return None) c.End) }) (s.Then 1 (s.Bounds 0 None ([])) s.NoBlock (s.Then 2 (s.Have (Rel relation.Le (Of2 binary.Add (Named name_s) (Named name_t)) (Number (pos 64))) ([])) s.NoBlock (s.Then 3 (s.Return ([]) ([]) ([])) s.NoBlock s.End))) ≡ (RefusedAt 1 34 1)
unfolding computing
conditions_715 = refl

conditions_716 : body_verdict (record { predicates = ((record { name = name_A; args = (sort.Int ∷ []); cases = ((record { opened = []; facts = ([]); locals = []; items = ([]) }) ∷ []) }) ∷ []); specs = ((record { is_void = true; name = name_f; params = (name_p ∷ []); vars = ((name_s, sort.Int) ∷ (name_t, sort.Int) ∷ (name_v, sort.Val) ∷ (name_w, sort.Val) ∷ (name_k, sort.List) ∷ (name_m, sort.List) ∷ []); pre = (record { opened = []; facts = ([]); locals = []; items = ((Holds (Var 2 sort.Val) (record { name = name_A; args = ((Number (pos 1)) ∷ []) })) ∷ []) }); post = (record { opened = []; facts = ([]); locals = []; items = ((Holds (Var 2 sort.Val) (record { name = name_A; args = ((Number (pos 1)) ∷ []) })) ∷ []) }) }) ∷ []) }) (record { is_void = true; name = name_f; params = (name_p ∷ []); vars = ((name_s, sort.Int) ∷ (name_t, sort.Int) ∷ (name_v, sort.Val) ∷ (name_w, sort.Val) ∷ (name_k, sort.List) ∷ (name_m, sort.List) ∷ []); pre = (record { opened = []; facts = ([]); locals = []; items = ((Holds (Var 2 sort.Val) (record { name = name_A; args = ((Number (pos 1)) ∷ []) })) ∷ []) }); post = (record { opened = []; facts = ([]); locals = []; items = ((Holds (Var 2 sort.Val) (record { name = name_A; args = ((Number (pos 1)) ∷ []) })) ∷ []) }) }) (record { temps = (name_p ∷ []); body = (c.Then (c.Return None) c.End) }) (s.Then 1 (s.Bounds 0 None ([])) s.NoBlock (s.Then 2 (s.Have (IsPtr (Named name_v)) ([])) s.NoBlock (s.Then 3 (s.Have (Rel relation.Le (Named name_s) (Number (pos 64))) ([])) s.NoBlock (s.Then 4 (s.Have (Rel relation.Le (Number (pos 1)) (Named name_s)) ([])) s.NoBlock (s.Then 5 (s.Return ([]) ([]) ([])) s.NoBlock s.End))))) ≡ (RefusedAt 1 34 1)
unfolding computing
conditions_716 = refl

conditions_717 : body_verdict (record { predicates = ((record { name = name_A; args = (sort.Int ∷ []); cases = ((record { opened = []; facts = ([]); locals = []; items = ([]) }) ∷ []) }) ∷ []); specs = ((record { is_void = true; name = name_f; params = (name_p ∷ []); vars = ((name_s, sort.Int) ∷ (name_t, sort.Int) ∷ (name_v, sort.Val) ∷ (name_w, sort.Val) ∷ (name_k, sort.List) ∷ (name_m, sort.List) ∷ []); pre = (record { opened = []; facts = ((Rel relation.Le (Number (pos 1)) (Var 1 sort.Int)) ∷ (Rel relation.Le (Of2 binary.Add (Var 1 sort.Int) (Number (pos 1))) (Var 0 sort.Int)) ∷ (Rel relation.Le (Of2 binary.Add (Var 0 sort.Int) (Var 1 sort.Int)) (Number (pos 64))) ∷ (Rel relation.Le (Number (pos 1)) (Of unary.Len (Var 4 sort.List))) ∷ []); locals = []; items = ((Holds (Var 2 sort.Val) (record { name = name_A; args = ((Number (pos 1)) ∷ []) })) ∷ []) }); post = (record { opened = []; facts = ([]); locals = []; items = ((Holds (Var 2 sort.Val) (record { name = name_A; args = ((Number (pos 1)) ∷ []) })) ∷ []) }) }) ∷ []) }) (record { is_void = true; name = name_f; params = (name_p ∷ []); vars = ((name_s, sort.Int) ∷ (name_t, sort.Int) ∷ (name_v, sort.Val) ∷ (name_w, sort.Val) ∷ (name_k, sort.List) ∷ (name_m, sort.List) ∷ []); pre = (record { opened = []; facts = ((Rel relation.Le (Number (pos 1)) (Var 1 sort.Int)) ∷ (Rel relation.Le (Of2 binary.Add (Var 1 sort.Int) (Number (pos 1))) (Var 0 sort.Int)) ∷ (Rel relation.Le (Of2 binary.Add (Var 0 sort.Int) (Var 1 sort.Int)) (Number (pos 64))) ∷ (Rel relation.Le (Number (pos 1)) (Of unary.Len (Var 4 sort.List))) ∷ []); locals = []; items = ((Holds (Var 2 sort.Val) (record { name = name_A; args = ((Number (pos 1)) ∷ []) })) ∷ []) }); post = (record { opened = []; facts = ([]); locals = []; items = ((Holds (Var 2 sort.Val) (record { name = name_A; args = ((Number (pos 1)) ∷ []) })) ∷ []) }) }) (record { temps = (name_p ∷ []); body = (c.Then (c.Return None) c.End) }) (s.Then 1 (s.Bounds 0 None ([])) s.NoBlock (s.Then 2 (s.Return ([]) ([]) ([])) s.NoBlock s.End)) ≡ (RefusedAt 1 34 1)
unfolding computing
conditions_717 = refl

conditions_718 : body_verdict (record { predicates = ((record { name = name_A; args = (sort.Int ∷ []); cases = ((record { opened = []; facts = ([]); locals = []; items = ([]) }) ∷ []) }) ∷ []); specs = ((record { is_void = true; name = name_f; params = (name_p ∷ []); vars = ((name_s, sort.Int) ∷ (name_t, sort.Int) ∷ (name_v, sort.Val) ∷ (name_w, sort.Val) ∷ (name_k, sort.List) ∷ (name_m, sort.List) ∷ []); pre = (record { opened = []; facts = ((Rel relation.Le (Number (pos 1)) (Var 1 sort.Int)) ∷ (Rel relation.Le (Of2 binary.Add (Var 1 sort.Int) (Number (pos 1))) (Var 0 sort.Int)) ∷ (Rel relation.Le (Of2 binary.Add (Var 0 sort.Int) (Var 1 sort.Int)) (Number (pos 64))) ∷ (Rel relation.Le (Number (pos 1)) (Of unary.Len (Var 4 sort.List))) ∷ []); locals = []; items = ((Holds (Var 2 sort.Val) (record { name = name_A; args = ((Number (pos 1)) ∷ []) })) ∷ []) }); post = (record { opened = []; facts = ([]); locals = []; items = ((Holds (Var 2 sort.Val) (record { name = name_A; args = ((Number (pos 1)) ∷ []) })) ∷ []) }) }) ∷ []) }) (record { is_void = true; name = name_f; params = (name_p ∷ []); vars = ((name_s, sort.Int) ∷ (name_t, sort.Int) ∷ (name_v, sort.Val) ∷ (name_w, sort.Val) ∷ (name_k, sort.List) ∷ (name_m, sort.List) ∷ []); pre = (record { opened = []; facts = ((Rel relation.Le (Number (pos 1)) (Var 1 sort.Int)) ∷ (Rel relation.Le (Of2 binary.Add (Var 1 sort.Int) (Number (pos 1))) (Var 0 sort.Int)) ∷ (Rel relation.Le (Of2 binary.Add (Var 0 sort.Int) (Var 1 sort.Int)) (Number (pos 64))) ∷ (Rel relation.Le (Number (pos 1)) (Of unary.Len (Var 4 sort.List))) ∷ []); locals = []; items = ((Holds (Var 2 sort.Val) (record { name = name_A; args = ((Number (pos 1)) ∷ []) })) ∷ []) }); post = (record { opened = []; facts = ([]); locals = []; items = ((Holds (Var 2 sort.Val) (record { name = name_A; args = ((Number (pos 1)) ∷ []) })) ∷ []) }) }) (record { temps = (name_p ∷ []); body = (c.Then (c.Return None) c.End) }) (s.Then 1 (s.Bounds 0 None ([])) s.NoBlock (s.Then 2 (s.Have (Rel relation.Le (Of2 binary.Add (Named name_s) (Named name_t)) (Number (pos 64))) ([])) s.NoBlock (s.Then 3 (s.Return ([]) ([]) ([])) s.NoBlock s.End))) ≡ (RefusedAt 1 34 1)
unfolding computing
conditions_718 = refl

conditions_719 : body_verdict (record { predicates = ((record { name = name_A; args = (sort.Int ∷ []); cases = ((record { opened = []; facts = ([]); locals = []; items = ([]) }) ∷ []) }) ∷ []); specs = ((record { is_void = true; name = name_f; params = (name_p ∷ []); vars = ((name_s, sort.Int) ∷ (name_t, sort.Int) ∷ (name_v, sort.Val) ∷ (name_w, sort.Val) ∷ (name_k, sort.List) ∷ (name_m, sort.List) ∷ []); pre = (record { opened = []; facts = ((Rel relation.Le (Number (pos 1)) (Var 1 sort.Int)) ∷ (Rel relation.Le (Of2 binary.Add (Var 1 sort.Int) (Number (pos 1))) (Var 0 sort.Int)) ∷ (Rel relation.Le (Of2 binary.Add (Var 0 sort.Int) (Var 1 sort.Int)) (Number (pos 64))) ∷ (Rel relation.Le (Number (pos 1)) (Of unary.Len (Var 4 sort.List))) ∷ []); locals = []; items = ((Holds (Var 2 sort.Val) (record { name = name_A; args = ((Number (pos 1)) ∷ []) })) ∷ []) }); post = (record { opened = []; facts = ([]); locals = []; items = ((Holds (Var 2 sort.Val) (record { name = name_A; args = ((Number (pos 1)) ∷ []) })) ∷ []) }) }) ∷ []) }) (record { is_void = true; name = name_f; params = (name_p ∷ []); vars = ((name_s, sort.Int) ∷ (name_t, sort.Int) ∷ (name_v, sort.Val) ∷ (name_w, sort.Val) ∷ (name_k, sort.List) ∷ (name_m, sort.List) ∷ []); pre = (record { opened = []; facts = ((Rel relation.Le (Number (pos 1)) (Var 1 sort.Int)) ∷ (Rel relation.Le (Of2 binary.Add (Var 1 sort.Int) (Number (pos 1))) (Var 0 sort.Int)) ∷ (Rel relation.Le (Of2 binary.Add (Var 0 sort.Int) (Var 1 sort.Int)) (Number (pos 64))) ∷ (Rel relation.Le (Number (pos 1)) (Of unary.Len (Var 4 sort.List))) ∷ []); locals = []; items = ((Holds (Var 2 sort.Val) (record { name = name_A; args = ((Number (pos 1)) ∷ []) })) ∷ []) }); post = (record { opened = []; facts = ([]); locals = []; items = ((Holds (Var 2 sort.Val) (record { name = name_A; args = ((Number (pos 1)) ∷ []) })) ∷ []) }) }) (record { temps = (name_p ∷ []); body = (c.Then (c.Return None) c.End) }) (s.Then 1 (s.Bounds 0 None ([])) s.NoBlock (s.Then 2 (s.Have (IsPtr (Named name_v)) ([])) s.NoBlock (s.Then 3 (s.Have (Rel relation.Le (Named name_s) (Number (pos 64))) ([])) s.NoBlock (s.Then 4 (s.Have (Rel relation.Le (Number (pos 1)) (Named name_s)) ([])) s.NoBlock (s.Then 5 (s.Return ([]) ([]) ([])) s.NoBlock s.End))))) ≡ (RefusedAt 1 34 1)
unfolding computing
conditions_719 = refl

conditions_720 : body_verdict (record { predicates = ((record { name = name_A; args = (sort.Int ∷ []); cases = ((record { opened = []; facts = ([]); locals = []; items = ([]) }) ∷ []) }) ∷ []); specs = ((record { is_void = true; name = name_f; params = (name_p ∷ []); vars = ((name_s, sort.Int) ∷ (name_t, sort.Int) ∷ (name_v, sort.Val) ∷ (name_w, sort.Val) ∷ (name_k, sort.List) ∷ (name_m, sort.List) ∷ []); pre = (record { opened = []; facts = ((Rel relation.Le (Number (pos 1)) (Var 1 sort.Int)) ∷ (Rel relation.Le (Of2 binary.Add (Var 1 sort.Int) (Number (pos 1))) (Var 0 sort.Int)) ∷ (Rel relation.Le (Of2 binary.Add (Var 0 sort.Int) (Var 1 sort.Int)) (Number (pos 65))) ∷ (Rel relation.Le (Number (pos 1)) (Of unary.Len (Var 4 sort.List))) ∷ []); locals = []; items = ((Holds (Var 2 sort.Val) (record { name = name_A; args = ((Number (pos 1)) ∷ []) })) ∷ []) }); post = (record { opened = []; facts = ([]); locals = []; items = ((Holds (Var 2 sort.Val) (record { name = name_A; args = ((Number (pos 1)) ∷ []) })) ∷ []) }) }) ∷ []) }) (record { is_void = true; name = name_f; params = (name_p ∷ []); vars = ((name_s, sort.Int) ∷ (name_t, sort.Int) ∷ (name_v, sort.Val) ∷ (name_w, sort.Val) ∷ (name_k, sort.List) ∷ (name_m, sort.List) ∷ []); pre = (record { opened = []; facts = ((Rel relation.Le (Number (pos 1)) (Var 1 sort.Int)) ∷ (Rel relation.Le (Of2 binary.Add (Var 1 sort.Int) (Number (pos 1))) (Var 0 sort.Int)) ∷ (Rel relation.Le (Of2 binary.Add (Var 0 sort.Int) (Var 1 sort.Int)) (Number (pos 65))) ∷ (Rel relation.Le (Number (pos 1)) (Of unary.Len (Var 4 sort.List))) ∷ []); locals = []; items = ((Holds (Var 2 sort.Val) (record { name = name_A; args = ((Number (pos 1)) ∷ []) })) ∷ []) }); post = (record { opened = []; facts = ([]); locals = []; items = ((Holds (Var 2 sort.Val) (record { name = name_A; args = ((Number (pos 1)) ∷ []) })) ∷ []) }) }) (record { temps = (name_p ∷ []); body = (c.Then (c.Return None) c.End) }) (s.Then 1 (s.Bounds 0 None ([])) s.NoBlock (s.Then 2 (s.Return ([]) ([]) ([])) s.NoBlock s.End)) ≡ (RefusedAt 1 34 1)
unfolding computing
conditions_720 = refl

conditions_721 : body_verdict (record { predicates = ((record { name = name_A; args = (sort.Int ∷ []); cases = ((record { opened = []; facts = ([]); locals = []; items = ([]) }) ∷ []) }) ∷ []); specs = ((record { is_void = true; name = name_f; params = (name_p ∷ []); vars = ((name_s, sort.Int) ∷ (name_t, sort.Int) ∷ (name_v, sort.Val) ∷ (name_w, sort.Val) ∷ (name_k, sort.List) ∷ (name_m, sort.List) ∷ []); pre = (record { opened = []; facts = ((Rel relation.Le (Number (pos 1)) (Var 1 sort.Int)) ∷ (Rel relation.Le (Of2 binary.Add (Var 1 sort.Int) (Number (pos 1))) (Var 0 sort.Int)) ∷ (Rel relation.Le (Of2 binary.Add (Var 0 sort.Int) (Var 1 sort.Int)) (Number (pos 65))) ∷ (Rel relation.Le (Number (pos 1)) (Of unary.Len (Var 4 sort.List))) ∷ []); locals = []; items = ((Holds (Var 2 sort.Val) (record { name = name_A; args = ((Number (pos 1)) ∷ []) })) ∷ []) }); post = (record { opened = []; facts = ([]); locals = []; items = ((Holds (Var 2 sort.Val) (record { name = name_A; args = ((Number (pos 1)) ∷ []) })) ∷ []) }) }) ∷ []) }) (record { is_void = true; name = name_f; params = (name_p ∷ []); vars = ((name_s, sort.Int) ∷ (name_t, sort.Int) ∷ (name_v, sort.Val) ∷ (name_w, sort.Val) ∷ (name_k, sort.List) ∷ (name_m, sort.List) ∷ []); pre = (record { opened = []; facts = ((Rel relation.Le (Number (pos 1)) (Var 1 sort.Int)) ∷ (Rel relation.Le (Of2 binary.Add (Var 1 sort.Int) (Number (pos 1))) (Var 0 sort.Int)) ∷ (Rel relation.Le (Of2 binary.Add (Var 0 sort.Int) (Var 1 sort.Int)) (Number (pos 65))) ∷ (Rel relation.Le (Number (pos 1)) (Of unary.Len (Var 4 sort.List))) ∷ []); locals = []; items = ((Holds (Var 2 sort.Val) (record { name = name_A; args = ((Number (pos 1)) ∷ []) })) ∷ []) }); post = (record { opened = []; facts = ([]); locals = []; items = ((Holds (Var 2 sort.Val) (record { name = name_A; args = ((Number (pos 1)) ∷ []) })) ∷ []) }) }) (record { temps = (name_p ∷ []); body = (c.Then (c.Return None) c.End) }) (s.Then 1 (s.Bounds 0 None ([])) s.NoBlock (s.Then 2 (s.Have (Rel relation.Le (Of2 binary.Add (Named name_s) (Named name_t)) (Number (pos 64))) ([])) s.NoBlock (s.Then 3 (s.Return ([]) ([]) ([])) s.NoBlock s.End))) ≡ (RefusedAt 1 34 1)
unfolding computing
conditions_721 = refl

conditions_722 : body_verdict (record { predicates = ((record { name = name_A; args = (sort.Int ∷ []); cases = ((record { opened = []; facts = ([]); locals = []; items = ([]) }) ∷ []) }) ∷ []); specs = ((record { is_void = true; name = name_f; params = (name_p ∷ []); vars = ((name_s, sort.Int) ∷ (name_t, sort.Int) ∷ (name_v, sort.Val) ∷ (name_w, sort.Val) ∷ (name_k, sort.List) ∷ (name_m, sort.List) ∷ []); pre = (record { opened = []; facts = ((Rel relation.Le (Number (pos 1)) (Var 1 sort.Int)) ∷ (Rel relation.Le (Of2 binary.Add (Var 1 sort.Int) (Number (pos 1))) (Var 0 sort.Int)) ∷ (Rel relation.Le (Of2 binary.Add (Var 0 sort.Int) (Var 1 sort.Int)) (Number (pos 65))) ∷ (Rel relation.Le (Number (pos 1)) (Of unary.Len (Var 4 sort.List))) ∷ []); locals = []; items = ((Holds (Var 2 sort.Val) (record { name = name_A; args = ((Number (pos 1)) ∷ []) })) ∷ []) }); post = (record { opened = []; facts = ([]); locals = []; items = ((Holds (Var 2 sort.Val) (record { name = name_A; args = ((Number (pos 1)) ∷ []) })) ∷ []) }) }) ∷ []) }) (record { is_void = true; name = name_f; params = (name_p ∷ []); vars = ((name_s, sort.Int) ∷ (name_t, sort.Int) ∷ (name_v, sort.Val) ∷ (name_w, sort.Val) ∷ (name_k, sort.List) ∷ (name_m, sort.List) ∷ []); pre = (record { opened = []; facts = ((Rel relation.Le (Number (pos 1)) (Var 1 sort.Int)) ∷ (Rel relation.Le (Of2 binary.Add (Var 1 sort.Int) (Number (pos 1))) (Var 0 sort.Int)) ∷ (Rel relation.Le (Of2 binary.Add (Var 0 sort.Int) (Var 1 sort.Int)) (Number (pos 65))) ∷ (Rel relation.Le (Number (pos 1)) (Of unary.Len (Var 4 sort.List))) ∷ []); locals = []; items = ((Holds (Var 2 sort.Val) (record { name = name_A; args = ((Number (pos 1)) ∷ []) })) ∷ []) }); post = (record { opened = []; facts = ([]); locals = []; items = ((Holds (Var 2 sort.Val) (record { name = name_A; args = ((Number (pos 1)) ∷ []) })) ∷ []) }) }) (record { temps = (name_p ∷ []); body = (c.Then (c.Return None) c.End) }) (s.Then 1 (s.Bounds 0 None ([])) s.NoBlock (s.Then 2 (s.Have (IsPtr (Named name_v)) ([])) s.NoBlock (s.Then 3 (s.Have (Rel relation.Le (Named name_s) (Number (pos 64))) ([])) s.NoBlock (s.Then 4 (s.Have (Rel relation.Le (Number (pos 1)) (Named name_s)) ([])) s.NoBlock (s.Then 5 (s.Return ([]) ([]) ([])) s.NoBlock s.End))))) ≡ (RefusedAt 1 34 1)
unfolding computing
conditions_722 = refl

conditions_723 : body_verdict (record { predicates = ((record { name = name_A; args = (sort.Int ∷ []); cases = ((record { opened = []; facts = ([]); locals = []; items = ([]) }) ∷ []) }) ∷ []); specs = ((record { is_void = true; name = name_f; params = (name_p ∷ []); vars = ((name_s, sort.Int) ∷ (name_t, sort.Int) ∷ (name_v, sort.Val) ∷ (name_w, sort.Val) ∷ (name_k, sort.List) ∷ (name_m, sort.List) ∷ []); pre = (record { opened = []; facts = ([]); locals = []; items = ((Holds (Var 2 sort.Val) (record { name = name_A; args = ((Number (pos 1)) ∷ []) })) ∷ []) }); post = (record { opened = []; facts = ([]); locals = []; items = ((Holds (Var 2 sort.Val) (record { name = name_A; args = ((Number (pos 1)) ∷ []) })) ∷ []) }) }) ∷ []) }) (record { is_void = true; name = name_f; params = (name_p ∷ []); vars = ((name_s, sort.Int) ∷ (name_t, sort.Int) ∷ (name_v, sort.Val) ∷ (name_w, sort.Val) ∷ (name_k, sort.List) ∷ (name_m, sort.List) ∷ []); pre = (record { opened = []; facts = ([]); locals = []; items = ((Holds (Var 2 sort.Val) (record { name = name_A; args = ((Number (pos 1)) ∷ []) })) ∷ []) }); post = (record { opened = []; facts = ([]); locals = []; items = ((Holds (Var 2 sort.Val) (record { name = name_A; args = ((Number (pos 1)) ∷ []) })) ∷ []) }) }) (record { temps = (name_p ∷ []); body = (c.Then (c.Return None) c.End) }) (s.Then 1 (s.Share 0 (Named name_t) ([])) s.NoBlock (s.Then 2 (s.Return ([]) ([]) ([])) s.NoBlock s.End)) ≡ (RefusedAt 1 31 1)
unfolding computing
conditions_723 = refl

conditions_724 : body_verdict (record { predicates = ((record { name = name_A; args = (sort.Int ∷ []); cases = ((record { opened = []; facts = ([]); locals = []; items = ([]) }) ∷ []) }) ∷ []); specs = ((record { is_void = true; name = name_f; params = (name_p ∷ []); vars = ((name_s, sort.Int) ∷ (name_t, sort.Int) ∷ (name_v, sort.Val) ∷ (name_w, sort.Val) ∷ (name_k, sort.List) ∷ (name_m, sort.List) ∷ []); pre = (record { opened = []; facts = ((Rel relation.Le (Number (pos 1)) (Var 1 sort.Int)) ∷ (Rel relation.Le (Of2 binary.Add (Var 1 sort.Int) (Number (pos 1))) (Var 0 sort.Int)) ∷ (Rel relation.Le (Of2 binary.Add (Var 0 sort.Int) (Var 1 sort.Int)) (Number (pos 64))) ∷ (Rel relation.Le (Number (pos 1)) (Of unary.Len (Var 4 sort.List))) ∷ []); locals = []; items = ((Holds (Var 2 sort.Val) (record { name = name_A; args = ((Number (pos 1)) ∷ []) })) ∷ []) }); post = (record { opened = []; facts = ([]); locals = []; items = ((Holds (Var 2 sort.Val) (record { name = name_A; args = ((Number (pos 1)) ∷ []) })) ∷ []) }) }) ∷ []) }) (record { is_void = true; name = name_f; params = (name_p ∷ []); vars = ((name_s, sort.Int) ∷ (name_t, sort.Int) ∷ (name_v, sort.Val) ∷ (name_w, sort.Val) ∷ (name_k, sort.List) ∷ (name_m, sort.List) ∷ []); pre = (record { opened = []; facts = ((Rel relation.Le (Number (pos 1)) (Var 1 sort.Int)) ∷ (Rel relation.Le (Of2 binary.Add (Var 1 sort.Int) (Number (pos 1))) (Var 0 sort.Int)) ∷ (Rel relation.Le (Of2 binary.Add (Var 0 sort.Int) (Var 1 sort.Int)) (Number (pos 64))) ∷ (Rel relation.Le (Number (pos 1)) (Of unary.Len (Var 4 sort.List))) ∷ []); locals = []; items = ((Holds (Var 2 sort.Val) (record { name = name_A; args = ((Number (pos 1)) ∷ []) })) ∷ []) }); post = (record { opened = []; facts = ([]); locals = []; items = ((Holds (Var 2 sort.Val) (record { name = name_A; args = ((Number (pos 1)) ∷ []) })) ∷ []) }) }) (record { temps = (name_p ∷ []); body = (c.Then (c.Return None) c.End) }) (s.Then 1 (s.Share 0 (Named name_t) ([])) s.NoBlock (s.Then 2 (s.Return ([]) ([]) ([])) s.NoBlock s.End)) ≡ (RefusedAt 1 31 1)
unfolding computing
conditions_724 = refl

conditions_725 : body_verdict (record { predicates = ((record { name = name_A; args = (sort.Int ∷ []); cases = ((record { opened = []; facts = ([]); locals = []; items = ([]) }) ∷ []) }) ∷ []); specs = ((record { is_void = true; name = name_f; params = (name_p ∷ []); vars = ((name_s, sort.Int) ∷ (name_t, sort.Int) ∷ (name_v, sort.Val) ∷ (name_w, sort.Val) ∷ (name_k, sort.List) ∷ (name_m, sort.List) ∷ []); pre = (record { opened = []; facts = ((Rel relation.Le (Number (pos 1)) (Var 1 sort.Int)) ∷ (Rel relation.Le (Of2 binary.Add (Var 1 sort.Int) (Number (pos 1))) (Var 0 sort.Int)) ∷ (Rel relation.Le (Of2 binary.Add (Var 0 sort.Int) (Var 1 sort.Int)) (Number (pos 65))) ∷ (Rel relation.Le (Number (pos 1)) (Of unary.Len (Var 4 sort.List))) ∷ []); locals = []; items = ((Holds (Var 2 sort.Val) (record { name = name_A; args = ((Number (pos 1)) ∷ []) })) ∷ []) }); post = (record { opened = []; facts = ([]); locals = []; items = ((Holds (Var 2 sort.Val) (record { name = name_A; args = ((Number (pos 1)) ∷ []) })) ∷ []) }) }) ∷ []) }) (record { is_void = true; name = name_f; params = (name_p ∷ []); vars = ((name_s, sort.Int) ∷ (name_t, sort.Int) ∷ (name_v, sort.Val) ∷ (name_w, sort.Val) ∷ (name_k, sort.List) ∷ (name_m, sort.List) ∷ []); pre = (record { opened = []; facts = ((Rel relation.Le (Number (pos 1)) (Var 1 sort.Int)) ∷ (Rel relation.Le (Of2 binary.Add (Var 1 sort.Int) (Number (pos 1))) (Var 0 sort.Int)) ∷ (Rel relation.Le (Of2 binary.Add (Var 0 sort.Int) (Var 1 sort.Int)) (Number (pos 65))) ∷ (Rel relation.Le (Number (pos 1)) (Of unary.Len (Var 4 sort.List))) ∷ []); locals = []; items = ((Holds (Var 2 sort.Val) (record { name = name_A; args = ((Number (pos 1)) ∷ []) })) ∷ []) }); post = (record { opened = []; facts = ([]); locals = []; items = ((Holds (Var 2 sort.Val) (record { name = name_A; args = ((Number (pos 1)) ∷ []) })) ∷ []) }) }) (record { temps = (name_p ∷ []); body = (c.Then (c.Return None) c.End) }) (s.Then 1 (s.Share 0 (Named name_t) ([])) s.NoBlock (s.Then 2 (s.Return ([]) ([]) ([])) s.NoBlock s.End)) ≡ (RefusedAt 1 31 1)
unfolding computing
conditions_725 = refl

conditions_726 : body_verdict (record { predicates = ((record { name = name_A; args = (sort.Int ∷ []); cases = ((record { opened = []; facts = ([]); locals = []; items = ([]) }) ∷ []) }) ∷ []); specs = ((record { is_void = true; name = name_f; params = (name_p ∷ []); vars = ((name_s, sort.Int) ∷ (name_t, sort.Int) ∷ (name_v, sort.Val) ∷ (name_w, sort.Val) ∷ (name_k, sort.List) ∷ (name_m, sort.List) ∷ []); pre = (record { opened = []; facts = ([]); locals = []; items = ((Lock (Var 0 sort.Int) (Var 2 sort.Val) (record { name = name_A; args = ((Number (pos 1)) ∷ []) })) ∷ (Data (Var 1 sort.Int) (Var 2 sort.Val) (Var 4 sort.List)) ∷ []) }); post = (record { opened = []; facts = ([]); locals = []; items = ((Lock (Var 0 sort.Int) (Var 2 sort.Val) (record { name = name_A; args = ((Number (pos 1)) ∷ []) })) ∷ (Data (Var 1 sort.Int) (Var 2 sort.Val) (Var 4 sort.List)) ∷ []) }) }) ∷ []) }) (record { is_void = true; name = name_f; params = (name_p ∷ []); vars = ((name_s, sort.Int) ∷ (name_t, sort.Int) ∷ (name_v, sort.Val) ∷ (name_w, sort.Val) ∷ (name_k, sort.List) ∷ (name_m, sort.List) ∷ []); pre = (record { opened = []; facts = ([]); locals = []; items = ((Lock (Var 0 sort.Int) (Var 2 sort.Val) (record { name = name_A; args = ((Number (pos 1)) ∷ []) })) ∷ (Data (Var 1 sort.Int) (Var 2 sort.Val) (Var 4 sort.List)) ∷ []) }); post = (record { opened = []; facts = ([]); locals = []; items = ((Lock (Var 0 sort.Int) (Var 2 sort.Val) (record { name = name_A; args = ((Number (pos 1)) ∷ []) })) ∷ (Data (Var 1 sort.Int) (Var 2 sort.Val) (Var 4 sort.List)) ∷ []) }) }) (record { temps = (name_p ∷ []); body = (c.Then (c.Return None) c.End) }) (s.Then 1 (s.Apart 0 1 ([])) s.NoBlock (s.Then 2 (s.Return ([]) ([]) ([])) s.NoBlock s.End)) ≡ (RefusedAt 1 35 1)
unfolding computing
conditions_726 = refl

conditions_727 : body_verdict (record { predicates = ((record { name = name_A; args = (sort.Int ∷ []); cases = ((record { opened = []; facts = ([]); locals = []; items = ([]) }) ∷ []) }) ∷ []); specs = ((record { is_void = true; name = name_f; params = (name_p ∷ []); vars = ((name_s, sort.Int) ∷ (name_t, sort.Int) ∷ (name_v, sort.Val) ∷ (name_w, sort.Val) ∷ (name_k, sort.List) ∷ (name_m, sort.List) ∷ []); pre = (record { opened = []; facts = ((Rel relation.Le (Number (pos 1)) (Var 1 sort.Int)) ∷ (Rel relation.Le (Of2 binary.Add (Var 1 sort.Int) (Number (pos 1))) (Var 0 sort.Int)) ∷ (Rel relation.Le (Of2 binary.Add (Var 0 sort.Int) (Var 1 sort.Int)) (Number (pos 64))) ∷ (Rel relation.Le (Number (pos 1)) (Of unary.Len (Var 4 sort.List))) ∷ []); locals = []; items = ((Lock (Var 0 sort.Int) (Var 2 sort.Val) (record { name = name_A; args = ((Number (pos 1)) ∷ []) })) ∷ (Data (Var 1 sort.Int) (Var 2 sort.Val) (Var 4 sort.List)) ∷ []) }); post = (record { opened = []; facts = ([]); locals = []; items = ((Lock (Var 0 sort.Int) (Var 2 sort.Val) (record { name = name_A; args = ((Number (pos 1)) ∷ []) })) ∷ (Data (Var 1 sort.Int) (Var 2 sort.Val) (Var 4 sort.List)) ∷ []) }) }) ∷ []) }) (record { is_void = true; name = name_f; params = (name_p ∷ []); vars = ((name_s, sort.Int) ∷ (name_t, sort.Int) ∷ (name_v, sort.Val) ∷ (name_w, sort.Val) ∷ (name_k, sort.List) ∷ (name_m, sort.List) ∷ []); pre = (record { opened = []; facts = ((Rel relation.Le (Number (pos 1)) (Var 1 sort.Int)) ∷ (Rel relation.Le (Of2 binary.Add (Var 1 sort.Int) (Number (pos 1))) (Var 0 sort.Int)) ∷ (Rel relation.Le (Of2 binary.Add (Var 0 sort.Int) (Var 1 sort.Int)) (Number (pos 64))) ∷ (Rel relation.Le (Number (pos 1)) (Of unary.Len (Var 4 sort.List))) ∷ []); locals = []; items = ((Lock (Var 0 sort.Int) (Var 2 sort.Val) (record { name = name_A; args = ((Number (pos 1)) ∷ []) })) ∷ (Data (Var 1 sort.Int) (Var 2 sort.Val) (Var 4 sort.List)) ∷ []) }); post = (record { opened = []; facts = ([]); locals = []; items = ((Lock (Var 0 sort.Int) (Var 2 sort.Val) (record { name = name_A; args = ((Number (pos 1)) ∷ []) })) ∷ (Data (Var 1 sort.Int) (Var 2 sort.Val) (Var 4 sort.List)) ∷ []) }) }) (record { temps = (name_p ∷ []); body = (c.Then (c.Return None) c.End) }) (s.Then 1 (s.Apart 0 1 ([])) s.NoBlock (s.Then 2 (s.Return ([]) ([]) ([])) s.NoBlock s.End)) ≡ (RefusedAt 1 35 1)
unfolding computing
conditions_727 = refl

conditions_728 : body_verdict (record { predicates = ((record { name = name_A; args = (sort.Int ∷ []); cases = ((record { opened = []; facts = ([]); locals = []; items = ([]) }) ∷ []) }) ∷ []); specs = ((record { is_void = true; name = name_f; params = (name_p ∷ []); vars = ((name_s, sort.Int) ∷ (name_t, sort.Int) ∷ (name_v, sort.Val) ∷ (name_w, sort.Val) ∷ (name_k, sort.List) ∷ (name_m, sort.List) ∷ []); pre = (record { opened = []; facts = ((Rel relation.Le (Number (pos 1)) (Var 1 sort.Int)) ∷ (Rel relation.Le (Of2 binary.Add (Var 1 sort.Int) (Number (pos 1))) (Var 0 sort.Int)) ∷ (Rel relation.Le (Of2 binary.Add (Var 0 sort.Int) (Var 1 sort.Int)) (Number (pos 65))) ∷ (Rel relation.Le (Number (pos 1)) (Of unary.Len (Var 4 sort.List))) ∷ []); locals = []; items = ((Lock (Var 0 sort.Int) (Var 2 sort.Val) (record { name = name_A; args = ((Number (pos 1)) ∷ []) })) ∷ (Data (Var 1 sort.Int) (Var 2 sort.Val) (Var 4 sort.List)) ∷ []) }); post = (record { opened = []; facts = ([]); locals = []; items = ((Lock (Var 0 sort.Int) (Var 2 sort.Val) (record { name = name_A; args = ((Number (pos 1)) ∷ []) })) ∷ (Data (Var 1 sort.Int) (Var 2 sort.Val) (Var 4 sort.List)) ∷ []) }) }) ∷ []) }) (record { is_void = true; name = name_f; params = (name_p ∷ []); vars = ((name_s, sort.Int) ∷ (name_t, sort.Int) ∷ (name_v, sort.Val) ∷ (name_w, sort.Val) ∷ (name_k, sort.List) ∷ (name_m, sort.List) ∷ []); pre = (record { opened = []; facts = ((Rel relation.Le (Number (pos 1)) (Var 1 sort.Int)) ∷ (Rel relation.Le (Of2 binary.Add (Var 1 sort.Int) (Number (pos 1))) (Var 0 sort.Int)) ∷ (Rel relation.Le (Of2 binary.Add (Var 0 sort.Int) (Var 1 sort.Int)) (Number (pos 65))) ∷ (Rel relation.Le (Number (pos 1)) (Of unary.Len (Var 4 sort.List))) ∷ []); locals = []; items = ((Lock (Var 0 sort.Int) (Var 2 sort.Val) (record { name = name_A; args = ((Number (pos 1)) ∷ []) })) ∷ (Data (Var 1 sort.Int) (Var 2 sort.Val) (Var 4 sort.List)) ∷ []) }); post = (record { opened = []; facts = ([]); locals = []; items = ((Lock (Var 0 sort.Int) (Var 2 sort.Val) (record { name = name_A; args = ((Number (pos 1)) ∷ []) })) ∷ (Data (Var 1 sort.Int) (Var 2 sort.Val) (Var 4 sort.List)) ∷ []) }) }) (record { temps = (name_p ∷ []); body = (c.Then (c.Return None) c.End) }) (s.Then 1 (s.Apart 0 1 ([])) s.NoBlock (s.Then 2 (s.Return ([]) ([]) ([])) s.NoBlock s.End)) ≡ (RefusedAt 1 35 1)
unfolding computing
conditions_728 = refl

conditions_729 : body_verdict (record { predicates = ((record { name = name_A; args = (sort.Int ∷ []); cases = ((record { opened = []; facts = ([]); locals = []; items = ([]) }) ∷ []) }) ∷ []); specs = ((record { is_void = true; name = name_f; params = (name_p ∷ []); vars = ((name_s, sort.Int) ∷ (name_t, sort.Int) ∷ (name_v, sort.Val) ∷ (name_w, sort.Val) ∷ (name_k, sort.List) ∷ (name_m, sort.List) ∷ []); pre = (record { opened = []; facts = ([]); locals = []; items = ((Lock (Var 0 sort.Int) (Var 2 sort.Val) (record { name = name_A; args = ((Number (pos 1)) ∷ []) })) ∷ (Data (Var 1 sort.Int) (Var 2 sort.Val) (Var 4 sort.List)) ∷ []) }); post = (record { opened = []; facts = ([]); locals = []; items = ((Lock (Var 0 sort.Int) (Var 2 sort.Val) (record { name = name_A; args = ((Number (pos 1)) ∷ []) })) ∷ (Data (Var 1 sort.Int) (Var 2 sort.Val) (Var 4 sort.List)) ∷ []) }) }) ∷ []) }) (record { is_void = true; name = name_f; params = (name_p ∷ []); vars = ((name_s, sort.Int) ∷ (name_t, sort.Int) ∷ (name_v, sort.Val) ∷ (name_w, sort.Val) ∷ (name_k, sort.List) ∷ (name_m, sort.List) ∷ []); pre = (record { opened = []; facts = ([]); locals = []; items = ((Lock (Var 0 sort.Int) (Var 2 sort.Val) (record { name = name_A; args = ((Number (pos 1)) ∷ []) })) ∷ (Data (Var 1 sort.Int) (Var 2 sort.Val) (Var 4 sort.List)) ∷ []) }); post = (record { opened = []; facts = ([]); locals = []; items = ((Lock (Var 0 sort.Int) (Var 2 sort.Val) (record { name = name_A; args = ((Number (pos 1)) ∷ []) })) ∷ (Data (Var 1 sort.Int) (Var 2 sort.Val) (Var 4 sort.List)) ∷ []) }) }) (record { temps = (name_p ∷ []); body = (c.Then (c.Return None) c.End) }) (s.Then 1 (s.Agree 0 1 ([])) s.NoBlock (s.Then 2 (s.Return ([]) ([]) ([])) s.NoBlock s.End)) ≡ (RefusedAt 1 33 1)
unfolding computing
conditions_729 = refl

conditions_730 : body_verdict (record { predicates = ((record { name = name_A; args = (sort.Int ∷ []); cases = ((record { opened = []; facts = ([]); locals = []; items = ([]) }) ∷ []) }) ∷ []); specs = ((record { is_void = true; name = name_f; params = (name_p ∷ []); vars = ((name_s, sort.Int) ∷ (name_t, sort.Int) ∷ (name_v, sort.Val) ∷ (name_w, sort.Val) ∷ (name_k, sort.List) ∷ (name_m, sort.List) ∷ []); pre = (record { opened = []; facts = ((Rel relation.Le (Number (pos 1)) (Var 1 sort.Int)) ∷ (Rel relation.Le (Of2 binary.Add (Var 1 sort.Int) (Number (pos 1))) (Var 0 sort.Int)) ∷ (Rel relation.Le (Of2 binary.Add (Var 0 sort.Int) (Var 1 sort.Int)) (Number (pos 64))) ∷ (Rel relation.Le (Number (pos 1)) (Of unary.Len (Var 4 sort.List))) ∷ []); locals = []; items = ((Lock (Var 0 sort.Int) (Var 2 sort.Val) (record { name = name_A; args = ((Number (pos 1)) ∷ []) })) ∷ (Data (Var 1 sort.Int) (Var 2 sort.Val) (Var 4 sort.List)) ∷ []) }); post = (record { opened = []; facts = ([]); locals = []; items = ((Lock (Var 0 sort.Int) (Var 2 sort.Val) (record { name = name_A; args = ((Number (pos 1)) ∷ []) })) ∷ (Data (Var 1 sort.Int) (Var 2 sort.Val) (Var 4 sort.List)) ∷ []) }) }) ∷ []) }) (record { is_void = true; name = name_f; params = (name_p ∷ []); vars = ((name_s, sort.Int) ∷ (name_t, sort.Int) ∷ (name_v, sort.Val) ∷ (name_w, sort.Val) ∷ (name_k, sort.List) ∷ (name_m, sort.List) ∷ []); pre = (record { opened = []; facts = ((Rel relation.Le (Number (pos 1)) (Var 1 sort.Int)) ∷ (Rel relation.Le (Of2 binary.Add (Var 1 sort.Int) (Number (pos 1))) (Var 0 sort.Int)) ∷ (Rel relation.Le (Of2 binary.Add (Var 0 sort.Int) (Var 1 sort.Int)) (Number (pos 64))) ∷ (Rel relation.Le (Number (pos 1)) (Of unary.Len (Var 4 sort.List))) ∷ []); locals = []; items = ((Lock (Var 0 sort.Int) (Var 2 sort.Val) (record { name = name_A; args = ((Number (pos 1)) ∷ []) })) ∷ (Data (Var 1 sort.Int) (Var 2 sort.Val) (Var 4 sort.List)) ∷ []) }); post = (record { opened = []; facts = ([]); locals = []; items = ((Lock (Var 0 sort.Int) (Var 2 sort.Val) (record { name = name_A; args = ((Number (pos 1)) ∷ []) })) ∷ (Data (Var 1 sort.Int) (Var 2 sort.Val) (Var 4 sort.List)) ∷ []) }) }) (record { temps = (name_p ∷ []); body = (c.Then (c.Return None) c.End) }) (s.Then 1 (s.Agree 0 1 ([])) s.NoBlock (s.Then 2 (s.Return ([]) ([]) ([])) s.NoBlock s.End)) ≡ (RefusedAt 1 33 1)
unfolding computing
conditions_730 = refl

conditions_731 : body_verdict (record { predicates = ((record { name = name_A; args = (sort.Int ∷ []); cases = ((record { opened = []; facts = ([]); locals = []; items = ([]) }) ∷ []) }) ∷ []); specs = ((record { is_void = true; name = name_f; params = (name_p ∷ []); vars = ((name_s, sort.Int) ∷ (name_t, sort.Int) ∷ (name_v, sort.Val) ∷ (name_w, sort.Val) ∷ (name_k, sort.List) ∷ (name_m, sort.List) ∷ []); pre = (record { opened = []; facts = ((Rel relation.Le (Number (pos 1)) (Var 1 sort.Int)) ∷ (Rel relation.Le (Of2 binary.Add (Var 1 sort.Int) (Number (pos 1))) (Var 0 sort.Int)) ∷ (Rel relation.Le (Of2 binary.Add (Var 0 sort.Int) (Var 1 sort.Int)) (Number (pos 65))) ∷ (Rel relation.Le (Number (pos 1)) (Of unary.Len (Var 4 sort.List))) ∷ []); locals = []; items = ((Lock (Var 0 sort.Int) (Var 2 sort.Val) (record { name = name_A; args = ((Number (pos 1)) ∷ []) })) ∷ (Data (Var 1 sort.Int) (Var 2 sort.Val) (Var 4 sort.List)) ∷ []) }); post = (record { opened = []; facts = ([]); locals = []; items = ((Lock (Var 0 sort.Int) (Var 2 sort.Val) (record { name = name_A; args = ((Number (pos 1)) ∷ []) })) ∷ (Data (Var 1 sort.Int) (Var 2 sort.Val) (Var 4 sort.List)) ∷ []) }) }) ∷ []) }) (record { is_void = true; name = name_f; params = (name_p ∷ []); vars = ((name_s, sort.Int) ∷ (name_t, sort.Int) ∷ (name_v, sort.Val) ∷ (name_w, sort.Val) ∷ (name_k, sort.List) ∷ (name_m, sort.List) ∷ []); pre = (record { opened = []; facts = ((Rel relation.Le (Number (pos 1)) (Var 1 sort.Int)) ∷ (Rel relation.Le (Of2 binary.Add (Var 1 sort.Int) (Number (pos 1))) (Var 0 sort.Int)) ∷ (Rel relation.Le (Of2 binary.Add (Var 0 sort.Int) (Var 1 sort.Int)) (Number (pos 65))) ∷ (Rel relation.Le (Number (pos 1)) (Of unary.Len (Var 4 sort.List))) ∷ []); locals = []; items = ((Lock (Var 0 sort.Int) (Var 2 sort.Val) (record { name = name_A; args = ((Number (pos 1)) ∷ []) })) ∷ (Data (Var 1 sort.Int) (Var 2 sort.Val) (Var 4 sort.List)) ∷ []) }); post = (record { opened = []; facts = ([]); locals = []; items = ((Lock (Var 0 sort.Int) (Var 2 sort.Val) (record { name = name_A; args = ((Number (pos 1)) ∷ []) })) ∷ (Data (Var 1 sort.Int) (Var 2 sort.Val) (Var 4 sort.List)) ∷ []) }) }) (record { temps = (name_p ∷ []); body = (c.Then (c.Return None) c.End) }) (s.Then 1 (s.Agree 0 1 ([])) s.NoBlock (s.Then 2 (s.Return ([]) ([]) ([])) s.NoBlock s.End)) ≡ (RefusedAt 1 33 1)
unfolding computing
conditions_731 = refl

conditions_732 : body_verdict (record { predicates = ((record { name = name_A; args = (sort.Int ∷ []); cases = ((record { opened = []; facts = ([]); locals = []; items = ([]) }) ∷ []) }) ∷ []); specs = ((record { is_void = true; name = name_f; params = (name_p ∷ []); vars = ((name_s, sort.Int) ∷ (name_t, sort.Int) ∷ (name_v, sort.Val) ∷ (name_w, sort.Val) ∷ (name_k, sort.List) ∷ (name_m, sort.List) ∷ []); pre = (record { opened = []; facts = ([]); locals = []; items = ((Lock (Var 0 sort.Int) (Var 2 sort.Val) (record { name = name_A; args = ((Number (pos 1)) ∷ []) })) ∷ []) }); post = (record { opened = []; facts = ([]); locals = []; items = ((Lock (Var 0 sort.Int) (Var 2 sort.Val) (record { name = name_A; args = ((Number (pos 1)) ∷ []) })) ∷ []) }) }) ∷ []) }) (record { is_void = true; name = name_f; params = (name_p ∷ []); vars = ((name_s, sort.Int) ∷ (name_t, sort.Int) ∷ (name_v, sort.Val) ∷ (name_w, sort.Val) ∷ (name_k, sort.List) ∷ (name_m, sort.List) ∷ []); pre = (record { opened = []; facts = ([]); locals = []; items = ((Lock (Var 0 sort.Int) (Var 2 sort.Val) (record { name = name_A; args = ((Number (pos 1)) ∷ []) })) ∷ []) }); post = (record { opened = []; facts = ([]); locals = []; items = ((Lock (Var 0 sort.Int) (Var 2 sort.Val) (record { name = name_A; args = ((Number (pos 1)) ∷ []) })) ∷ []) }) }) (record { temps = (name_p ∷ []); body = (c.Then (c.Return None) c.End) }) (s.Then 1 (s.Cut 0 (Named name_k) (Named name_m)) s.NoBlock (s.Then 2 (s.Return ([]) ([]) ([])) s.NoBlock s.End)) ≡ (RefusedAt 1 29 1)
unfolding computing
conditions_732 = refl

conditions_733 : body_verdict (record { predicates = ((record { name = name_A; args = (sort.Int ∷ []); cases = ((record { opened = []; facts = ([]); locals = []; items = ([]) }) ∷ []) }) ∷ []); specs = ((record { is_void = true; name = name_f; params = (name_p ∷ []); vars = ((name_s, sort.Int) ∷ (name_t, sort.Int) ∷ (name_v, sort.Val) ∷ (name_w, sort.Val) ∷ (name_k, sort.List) ∷ (name_m, sort.List) ∷ []); pre = (record { opened = []; facts = ((Rel relation.Le (Number (pos 1)) (Var 1 sort.Int)) ∷ (Rel relation.Le (Of2 binary.Add (Var 1 sort.Int) (Number (pos 1))) (Var 0 sort.Int)) ∷ (Rel relation.Le (Of2 binary.Add (Var 0 sort.Int) (Var 1 sort.Int)) (Number (pos 64))) ∷ (Rel relation.Le (Number (pos 1)) (Of unary.Len (Var 4 sort.List))) ∷ []); locals = []; items = ((Lock (Var 0 sort.Int) (Var 2 sort.Val) (record { name = name_A; args = ((Number (pos 1)) ∷ []) })) ∷ []) }); post = (record { opened = []; facts = ([]); locals = []; items = ((Lock (Var 0 sort.Int) (Var 2 sort.Val) (record { name = name_A; args = ((Number (pos 1)) ∷ []) })) ∷ []) }) }) ∷ []) }) (record { is_void = true; name = name_f; params = (name_p ∷ []); vars = ((name_s, sort.Int) ∷ (name_t, sort.Int) ∷ (name_v, sort.Val) ∷ (name_w, sort.Val) ∷ (name_k, sort.List) ∷ (name_m, sort.List) ∷ []); pre = (record { opened = []; facts = ((Rel relation.Le (Number (pos 1)) (Var 1 sort.Int)) ∷ (Rel relation.Le (Of2 binary.Add (Var 1 sort.Int) (Number (pos 1))) (Var 0 sort.Int)) ∷ (Rel relation.Le (Of2 binary.Add (Var 0 sort.Int) (Var 1 sort.Int)) (Number (pos 64))) ∷ (Rel relation.Le (Number (pos 1)) (Of unary.Len (Var 4 sort.List))) ∷ []); locals = []; items = ((Lock (Var 0 sort.Int) (Var 2 sort.Val) (record { name = name_A; args = ((Number (pos 1)) ∷ []) })) ∷ []) }); post = (record { opened = []; facts = ([]); locals = []; items = ((Lock (Var 0 sort.Int) (Var 2 sort.Val) (record { name = name_A; args = ((Number (pos 1)) ∷ []) })) ∷ []) }) }) (record { temps = (name_p ∷ []); body = (c.Then (c.Return None) c.End) }) (s.Then 1 (s.Cut 0 (Named name_k) (Named name_m)) s.NoBlock (s.Then 2 (s.Return ([]) ([]) ([])) s.NoBlock s.End)) ≡ (RefusedAt 1 29 1)
unfolding computing
conditions_733 = refl

conditions_734 : body_verdict (record { predicates = ((record { name = name_A; args = (sort.Int ∷ []); cases = ((record { opened = []; facts = ([]); locals = []; items = ([]) }) ∷ []) }) ∷ []); specs = ((record { is_void = true; name = name_f; params = (name_p ∷ []); vars = ((name_s, sort.Int) ∷ (name_t, sort.Int) ∷ (name_v, sort.Val) ∷ (name_w, sort.Val) ∷ (name_k, sort.List) ∷ (name_m, sort.List) ∷ []); pre = (record { opened = []; facts = ((Rel relation.Le (Number (pos 1)) (Var 1 sort.Int)) ∷ (Rel relation.Le (Of2 binary.Add (Var 1 sort.Int) (Number (pos 1))) (Var 0 sort.Int)) ∷ (Rel relation.Le (Of2 binary.Add (Var 0 sort.Int) (Var 1 sort.Int)) (Number (pos 65))) ∷ (Rel relation.Le (Number (pos 1)) (Of unary.Len (Var 4 sort.List))) ∷ []); locals = []; items = ((Lock (Var 0 sort.Int) (Var 2 sort.Val) (record { name = name_A; args = ((Number (pos 1)) ∷ []) })) ∷ []) }); post = (record { opened = []; facts = ([]); locals = []; items = ((Lock (Var 0 sort.Int) (Var 2 sort.Val) (record { name = name_A; args = ((Number (pos 1)) ∷ []) })) ∷ []) }) }) ∷ []) }) (record { is_void = true; name = name_f; params = (name_p ∷ []); vars = ((name_s, sort.Int) ∷ (name_t, sort.Int) ∷ (name_v, sort.Val) ∷ (name_w, sort.Val) ∷ (name_k, sort.List) ∷ (name_m, sort.List) ∷ []); pre = (record { opened = []; facts = ((Rel relation.Le (Number (pos 1)) (Var 1 sort.Int)) ∷ (Rel relation.Le (Of2 binary.Add (Var 1 sort.Int) (Number (pos 1))) (Var 0 sort.Int)) ∷ (Rel relation.Le (Of2 binary.Add (Var 0 sort.Int) (Var 1 sort.Int)) (Number (pos 65))) ∷ (Rel relation.Le (Number (pos 1)) (Of unary.Len (Var 4 sort.List))) ∷ []); locals = []; items = ((Lock (Var 0 sort.Int) (Var 2 sort.Val) (record { name = name_A; args = ((Number (pos 1)) ∷ []) })) ∷ []) }); post = (record { opened = []; facts = ([]); locals = []; items = ((Lock (Var 0 sort.Int) (Var 2 sort.Val) (record { name = name_A; args = ((Number (pos 1)) ∷ []) })) ∷ []) }) }) (record { temps = (name_p ∷ []); body = (c.Then (c.Return None) c.End) }) (s.Then 1 (s.Cut 0 (Named name_k) (Named name_m)) s.NoBlock (s.Then 2 (s.Return ([]) ([]) ([])) s.NoBlock s.End)) ≡ (RefusedAt 1 29 1)
unfolding computing
conditions_734 = refl

conditions_735 : body_verdict (record { predicates = ((record { name = name_A; args = (sort.Int ∷ []); cases = ((record { opened = []; facts = ([]); locals = []; items = ([]) }) ∷ []) }) ∷ []); specs = ((record { is_void = true; name = name_f; params = (name_p ∷ []); vars = ((name_s, sort.Int) ∷ (name_t, sort.Int) ∷ (name_v, sort.Val) ∷ (name_w, sort.Val) ∷ (name_k, sort.List) ∷ (name_m, sort.List) ∷ []); pre = (record { opened = []; facts = ([]); locals = []; items = ((Data (Var 0 sort.Int) (Var 2 sort.Val) (Of2 binary.App (Var 4 sort.List) (Var 5 sort.List))) ∷ []) }); post = (record { opened = []; facts = ([]); locals = []; items = ((Data (Var 0 sort.Int) (Var 2 sort.Val) (Var 4 sort.List)) ∷ []) }) }) ∷ []) }) (record { is_void = true; name = name_f; params = (name_p ∷ []); vars = ((name_s, sort.Int) ∷ (name_t, sort.Int) ∷ (name_v, sort.Val) ∷ (name_w, sort.Val) ∷ (name_k, sort.List) ∷ (name_m, sort.List) ∷ []); pre = (record { opened = []; facts = ([]); locals = []; items = ((Data (Var 0 sort.Int) (Var 2 sort.Val) (Of2 binary.App (Var 4 sort.List) (Var 5 sort.List))) ∷ []) }); post = (record { opened = []; facts = ([]); locals = []; items = ((Data (Var 0 sort.Int) (Var 2 sort.Val) (Var 4 sort.List)) ∷ []) }) }) (record { temps = (name_p ∷ []); body = (c.Then (c.Return None) c.End) }) (s.Then 1 (s.Cut 0 (Named name_k) (Number (pos 1))) s.NoBlock (s.Then 2 (s.Return ([]) ([]) ([])) s.NoBlock s.End)) ≡ (RefusedAt 1 29 1)
unfolding computing
conditions_735 = refl

conditions_736 : body_verdict (record { predicates = ((record { name = name_A; args = (sort.Int ∷ []); cases = ((record { opened = []; facts = ([]); locals = []; items = ([]) }) ∷ []) }) ∷ []); specs = ((record { is_void = true; name = name_f; params = (name_p ∷ []); vars = ((name_s, sort.Int) ∷ (name_t, sort.Int) ∷ (name_v, sort.Val) ∷ (name_w, sort.Val) ∷ (name_k, sort.List) ∷ (name_m, sort.List) ∷ []); pre = (record { opened = []; facts = ((Rel relation.Le (Number (pos 1)) (Var 1 sort.Int)) ∷ (Rel relation.Le (Of2 binary.Add (Var 1 sort.Int) (Number (pos 1))) (Var 0 sort.Int)) ∷ (Rel relation.Le (Of2 binary.Add (Var 0 sort.Int) (Var 1 sort.Int)) (Number (pos 64))) ∷ (Rel relation.Le (Number (pos 1)) (Of unary.Len (Var 4 sort.List))) ∷ []); locals = []; items = ((Data (Var 0 sort.Int) (Var 2 sort.Val) (Of2 binary.App (Var 4 sort.List) (Var 5 sort.List))) ∷ []) }); post = (record { opened = []; facts = ([]); locals = []; items = ((Data (Var 0 sort.Int) (Var 2 sort.Val) (Var 4 sort.List)) ∷ []) }) }) ∷ []) }) (record { is_void = true; name = name_f; params = (name_p ∷ []); vars = ((name_s, sort.Int) ∷ (name_t, sort.Int) ∷ (name_v, sort.Val) ∷ (name_w, sort.Val) ∷ (name_k, sort.List) ∷ (name_m, sort.List) ∷ []); pre = (record { opened = []; facts = ((Rel relation.Le (Number (pos 1)) (Var 1 sort.Int)) ∷ (Rel relation.Le (Of2 binary.Add (Var 1 sort.Int) (Number (pos 1))) (Var 0 sort.Int)) ∷ (Rel relation.Le (Of2 binary.Add (Var 0 sort.Int) (Var 1 sort.Int)) (Number (pos 64))) ∷ (Rel relation.Le (Number (pos 1)) (Of unary.Len (Var 4 sort.List))) ∷ []); locals = []; items = ((Data (Var 0 sort.Int) (Var 2 sort.Val) (Of2 binary.App (Var 4 sort.List) (Var 5 sort.List))) ∷ []) }); post = (record { opened = []; facts = ([]); locals = []; items = ((Data (Var 0 sort.Int) (Var 2 sort.Val) (Var 4 sort.List)) ∷ []) }) }) (record { temps = (name_p ∷ []); body = (c.Then (c.Return None) c.End) }) (s.Then 1 (s.Cut 0 (Named name_k) (Number (pos 1))) s.NoBlock (s.Then 2 (s.Return ([]) ([]) ([])) s.NoBlock s.End)) ≡ (RefusedAt 1 29 1)
unfolding computing
conditions_736 = refl

conditions_737 : body_verdict (record { predicates = ((record { name = name_A; args = (sort.Int ∷ []); cases = ((record { opened = []; facts = ([]); locals = []; items = ([]) }) ∷ []) }) ∷ []); specs = ((record { is_void = true; name = name_f; params = (name_p ∷ []); vars = ((name_s, sort.Int) ∷ (name_t, sort.Int) ∷ (name_v, sort.Val) ∷ (name_w, sort.Val) ∷ (name_k, sort.List) ∷ (name_m, sort.List) ∷ []); pre = (record { opened = []; facts = ((Rel relation.Le (Number (pos 1)) (Var 1 sort.Int)) ∷ (Rel relation.Le (Of2 binary.Add (Var 1 sort.Int) (Number (pos 1))) (Var 0 sort.Int)) ∷ (Rel relation.Le (Of2 binary.Add (Var 0 sort.Int) (Var 1 sort.Int)) (Number (pos 65))) ∷ (Rel relation.Le (Number (pos 1)) (Of unary.Len (Var 4 sort.List))) ∷ []); locals = []; items = ((Data (Var 0 sort.Int) (Var 2 sort.Val) (Of2 binary.App (Var 4 sort.List) (Var 5 sort.List))) ∷ []) }); post = (record { opened = []; facts = ([]); locals = []; items = ((Data (Var 0 sort.Int) (Var 2 sort.Val) (Var 4 sort.List)) ∷ []) }) }) ∷ []) }) (record { is_void = true; name = name_f; params = (name_p ∷ []); vars = ((name_s, sort.Int) ∷ (name_t, sort.Int) ∷ (name_v, sort.Val) ∷ (name_w, sort.Val) ∷ (name_k, sort.List) ∷ (name_m, sort.List) ∷ []); pre = (record { opened = []; facts = ((Rel relation.Le (Number (pos 1)) (Var 1 sort.Int)) ∷ (Rel relation.Le (Of2 binary.Add (Var 1 sort.Int) (Number (pos 1))) (Var 0 sort.Int)) ∷ (Rel relation.Le (Of2 binary.Add (Var 0 sort.Int) (Var 1 sort.Int)) (Number (pos 65))) ∷ (Rel relation.Le (Number (pos 1)) (Of unary.Len (Var 4 sort.List))) ∷ []); locals = []; items = ((Data (Var 0 sort.Int) (Var 2 sort.Val) (Of2 binary.App (Var 4 sort.List) (Var 5 sort.List))) ∷ []) }); post = (record { opened = []; facts = ([]); locals = []; items = ((Data (Var 0 sort.Int) (Var 2 sort.Val) (Var 4 sort.List)) ∷ []) }) }) (record { temps = (name_p ∷ []); body = (c.Then (c.Return None) c.End) }) (s.Then 1 (s.Cut 0 (Named name_k) (Number (pos 1))) s.NoBlock (s.Then 2 (s.Return ([]) ([]) ([])) s.NoBlock s.End)) ≡ (RefusedAt 1 29 1)
unfolding computing
conditions_737 = refl

conditions_738 : body_verdict (record { predicates = ((record { name = name_A; args = (sort.Int ∷ []); cases = ((record { opened = []; facts = ([]); locals = []; items = ([]) }) ∷ []) }) ∷ []); specs = ((record { is_void = true; name = name_f; params = (name_p ∷ []); vars = ((name_s, sort.Int) ∷ (name_t, sort.Int) ∷ (name_v, sort.Val) ∷ (name_w, sort.Val) ∷ (name_k, sort.List) ∷ (name_m, sort.List) ∷ []); pre = (record { opened = []; facts = ([]); locals = []; items = ((Data (Var 0 sort.Int) (Var 2 sort.Val) (Of2 binary.App (Var 4 sort.List) (Var 5 sort.List))) ∷ []) }); post = (record { opened = []; facts = ([]); locals = []; items = ((Data (Var 0 sort.Int) (Var 2 sort.Val) (Var 4 sort.List)) ∷ []) }) }) ∷ []) }) (record { is_void = true; name = name_f; params = (name_p ∷ []); vars = ((name_s, sort.Int) ∷ (name_t, sort.Int) ∷ (name_v, sort.Val) ∷ (name_w, sort.Val) ∷ (name_k, sort.List) ∷ (name_m, sort.List) ∷ []); pre = (record { opened = []; facts = ([]); locals = []; items = ((Data (Var 0 sort.Int) (Var 2 sort.Val) (Of2 binary.App (Var 4 sort.List) (Var 5 sort.List))) ∷ []) }); post = (record { opened = []; facts = ([]); locals = []; items = ((Data (Var 0 sort.Int) (Var 2 sort.Val) (Var 4 sort.List)) ∷ []) }) }) (record { temps = (name_p ∷ []); body = (c.Then (c.Return None) c.End) }) (s.Then 1 (s.Cut 0 (Number (pos 1)) (Named name_m)) s.NoBlock (s.Then 2 (s.Return ([]) ([]) ([])) s.NoBlock s.End)) ≡ (RefusedAt 1 29 1)
unfolding computing
conditions_738 = refl

conditions_739 : body_verdict (record { predicates = ((record { name = name_A; args = (sort.Int ∷ []); cases = ((record { opened = []; facts = ([]); locals = []; items = ([]) }) ∷ []) }) ∷ []); specs = ((record { is_void = true; name = name_f; params = (name_p ∷ []); vars = ((name_s, sort.Int) ∷ (name_t, sort.Int) ∷ (name_v, sort.Val) ∷ (name_w, sort.Val) ∷ (name_k, sort.List) ∷ (name_m, sort.List) ∷ []); pre = (record { opened = []; facts = ((Rel relation.Le (Number (pos 1)) (Var 1 sort.Int)) ∷ (Rel relation.Le (Of2 binary.Add (Var 1 sort.Int) (Number (pos 1))) (Var 0 sort.Int)) ∷ (Rel relation.Le (Of2 binary.Add (Var 0 sort.Int) (Var 1 sort.Int)) (Number (pos 64))) ∷ (Rel relation.Le (Number (pos 1)) (Of unary.Len (Var 4 sort.List))) ∷ []); locals = []; items = ((Data (Var 0 sort.Int) (Var 2 sort.Val) (Of2 binary.App (Var 4 sort.List) (Var 5 sort.List))) ∷ []) }); post = (record { opened = []; facts = ([]); locals = []; items = ((Data (Var 0 sort.Int) (Var 2 sort.Val) (Var 4 sort.List)) ∷ []) }) }) ∷ []) }) (record { is_void = true; name = name_f; params = (name_p ∷ []); vars = ((name_s, sort.Int) ∷ (name_t, sort.Int) ∷ (name_v, sort.Val) ∷ (name_w, sort.Val) ∷ (name_k, sort.List) ∷ (name_m, sort.List) ∷ []); pre = (record { opened = []; facts = ((Rel relation.Le (Number (pos 1)) (Var 1 sort.Int)) ∷ (Rel relation.Le (Of2 binary.Add (Var 1 sort.Int) (Number (pos 1))) (Var 0 sort.Int)) ∷ (Rel relation.Le (Of2 binary.Add (Var 0 sort.Int) (Var 1 sort.Int)) (Number (pos 64))) ∷ (Rel relation.Le (Number (pos 1)) (Of unary.Len (Var 4 sort.List))) ∷ []); locals = []; items = ((Data (Var 0 sort.Int) (Var 2 sort.Val) (Of2 binary.App (Var 4 sort.List) (Var 5 sort.List))) ∷ []) }); post = (record { opened = []; facts = ([]); locals = []; items = ((Data (Var 0 sort.Int) (Var 2 sort.Val) (Var 4 sort.List)) ∷ []) }) }) (record { temps = (name_p ∷ []); body = (c.Then (c.Return None) c.End) }) (s.Then 1 (s.Cut 0 (Number (pos 1)) (Named name_m)) s.NoBlock (s.Then 2 (s.Return ([]) ([]) ([])) s.NoBlock s.End)) ≡ (RefusedAt 1 29 1)
unfolding computing
conditions_739 = refl

conditions_740 : body_verdict (record { predicates = ((record { name = name_A; args = (sort.Int ∷ []); cases = ((record { opened = []; facts = ([]); locals = []; items = ([]) }) ∷ []) }) ∷ []); specs = ((record { is_void = true; name = name_f; params = (name_p ∷ []); vars = ((name_s, sort.Int) ∷ (name_t, sort.Int) ∷ (name_v, sort.Val) ∷ (name_w, sort.Val) ∷ (name_k, sort.List) ∷ (name_m, sort.List) ∷ []); pre = (record { opened = []; facts = ((Rel relation.Le (Number (pos 1)) (Var 1 sort.Int)) ∷ (Rel relation.Le (Of2 binary.Add (Var 1 sort.Int) (Number (pos 1))) (Var 0 sort.Int)) ∷ (Rel relation.Le (Of2 binary.Add (Var 0 sort.Int) (Var 1 sort.Int)) (Number (pos 65))) ∷ (Rel relation.Le (Number (pos 1)) (Of unary.Len (Var 4 sort.List))) ∷ []); locals = []; items = ((Data (Var 0 sort.Int) (Var 2 sort.Val) (Of2 binary.App (Var 4 sort.List) (Var 5 sort.List))) ∷ []) }); post = (record { opened = []; facts = ([]); locals = []; items = ((Data (Var 0 sort.Int) (Var 2 sort.Val) (Var 4 sort.List)) ∷ []) }) }) ∷ []) }) (record { is_void = true; name = name_f; params = (name_p ∷ []); vars = ((name_s, sort.Int) ∷ (name_t, sort.Int) ∷ (name_v, sort.Val) ∷ (name_w, sort.Val) ∷ (name_k, sort.List) ∷ (name_m, sort.List) ∷ []); pre = (record { opened = []; facts = ((Rel relation.Le (Number (pos 1)) (Var 1 sort.Int)) ∷ (Rel relation.Le (Of2 binary.Add (Var 1 sort.Int) (Number (pos 1))) (Var 0 sort.Int)) ∷ (Rel relation.Le (Of2 binary.Add (Var 0 sort.Int) (Var 1 sort.Int)) (Number (pos 65))) ∷ (Rel relation.Le (Number (pos 1)) (Of unary.Len (Var 4 sort.List))) ∷ []); locals = []; items = ((Data (Var 0 sort.Int) (Var 2 sort.Val) (Of2 binary.App (Var 4 sort.List) (Var 5 sort.List))) ∷ []) }); post = (record { opened = []; facts = ([]); locals = []; items = ((Data (Var 0 sort.Int) (Var 2 sort.Val) (Var 4 sort.List)) ∷ []) }) }) (record { temps = (name_p ∷ []); body = (c.Then (c.Return None) c.End) }) (s.Then 1 (s.Cut 0 (Number (pos 1)) (Named name_m)) s.NoBlock (s.Then 2 (s.Return ([]) ([]) ([])) s.NoBlock s.End)) ≡ (RefusedAt 1 29 1)
unfolding computing
conditions_740 = refl

conditions_741 : body_verdict (record { predicates = ((record { name = name_A; args = (sort.Int ∷ []); cases = ((record { opened = []; facts = ([]); locals = []; items = ([]) }) ∷ []) }) ∷ []); specs = ((record { is_void = true; name = name_f; params = (name_p ∷ []); vars = ((name_s, sort.Int) ∷ (name_t, sort.Int) ∷ (name_v, sort.Val) ∷ (name_w, sort.Val) ∷ (name_k, sort.List) ∷ (name_m, sort.List) ∷ []); pre = (record { opened = []; facts = ([]); locals = []; items = ((Data (Var 0 sort.Int) (Var 2 sort.Val) (Var 4 sort.List)) ∷ []) }); post = (record { opened = []; facts = ([]); locals = []; items = ((Data (Var 0 sort.Int) (Var 2 sort.Val) (Var 4 sort.List)) ∷ []) }) }) ∷ []) }) (record { is_void = true; name = name_f; params = (name_p ∷ []); vars = ((name_s, sort.Int) ∷ (name_t, sort.Int) ∷ (name_v, sort.Val) ∷ (name_w, sort.Val) ∷ (name_k, sort.List) ∷ (name_m, sort.List) ∷ []); pre = (record { opened = []; facts = ([]); locals = []; items = ((Data (Var 0 sort.Int) (Var 2 sort.Val) (Var 4 sort.List)) ∷ []) }); post = (record { opened = []; facts = ([]); locals = []; items = ((Data (Var 0 sort.Int) (Var 2 sort.Val) (Var 4 sort.List)) ∷ []) }) }) (record { temps = (name_p ∷ []); body = (c.Then (c.Return None) c.End) }) (s.Then 1 (s.Share 0 (Named name_v) ([])) s.NoBlock (s.Then 2 (s.Return ([]) ([]) ([])) s.NoBlock s.End)) ≡ (RefusedAt 1 31 1)
unfolding computing
conditions_741 = refl

conditions_742 : body_verdict (record { predicates = ((record { name = name_A; args = (sort.Int ∷ []); cases = ((record { opened = []; facts = ([]); locals = []; items = ([]) }) ∷ []) }) ∷ []); specs = ((record { is_void = true; name = name_f; params = (name_p ∷ []); vars = ((name_s, sort.Int) ∷ (name_t, sort.Int) ∷ (name_v, sort.Val) ∷ (name_w, sort.Val) ∷ (name_k, sort.List) ∷ (name_m, sort.List) ∷ []); pre = (record { opened = []; facts = ((Rel relation.Le (Number (pos 1)) (Var 1 sort.Int)) ∷ (Rel relation.Le (Of2 binary.Add (Var 1 sort.Int) (Number (pos 1))) (Var 0 sort.Int)) ∷ (Rel relation.Le (Of2 binary.Add (Var 0 sort.Int) (Var 1 sort.Int)) (Number (pos 64))) ∷ (Rel relation.Le (Number (pos 1)) (Of unary.Len (Var 4 sort.List))) ∷ []); locals = []; items = ((Data (Var 0 sort.Int) (Var 2 sort.Val) (Var 4 sort.List)) ∷ []) }); post = (record { opened = []; facts = ([]); locals = []; items = ((Data (Var 0 sort.Int) (Var 2 sort.Val) (Var 4 sort.List)) ∷ []) }) }) ∷ []) }) (record { is_void = true; name = name_f; params = (name_p ∷ []); vars = ((name_s, sort.Int) ∷ (name_t, sort.Int) ∷ (name_v, sort.Val) ∷ (name_w, sort.Val) ∷ (name_k, sort.List) ∷ (name_m, sort.List) ∷ []); pre = (record { opened = []; facts = ((Rel relation.Le (Number (pos 1)) (Var 1 sort.Int)) ∷ (Rel relation.Le (Of2 binary.Add (Var 1 sort.Int) (Number (pos 1))) (Var 0 sort.Int)) ∷ (Rel relation.Le (Of2 binary.Add (Var 0 sort.Int) (Var 1 sort.Int)) (Number (pos 64))) ∷ (Rel relation.Le (Number (pos 1)) (Of unary.Len (Var 4 sort.List))) ∷ []); locals = []; items = ((Data (Var 0 sort.Int) (Var 2 sort.Val) (Var 4 sort.List)) ∷ []) }); post = (record { opened = []; facts = ([]); locals = []; items = ((Data (Var 0 sort.Int) (Var 2 sort.Val) (Var 4 sort.List)) ∷ []) }) }) (record { temps = (name_p ∷ []); body = (c.Then (c.Return None) c.End) }) (s.Then 1 (s.Share 0 (Named name_v) ([])) s.NoBlock (s.Then 2 (s.Return ([]) ([]) ([])) s.NoBlock s.End)) ≡ (RefusedAt 1 31 1)
unfolding computing
conditions_742 = refl

conditions_743 : body_verdict (record { predicates = ((record { name = name_A; args = (sort.Int ∷ []); cases = ((record { opened = []; facts = ([]); locals = []; items = ([]) }) ∷ []) }) ∷ []); specs = ((record { is_void = true; name = name_f; params = (name_p ∷ []); vars = ((name_s, sort.Int) ∷ (name_t, sort.Int) ∷ (name_v, sort.Val) ∷ (name_w, sort.Val) ∷ (name_k, sort.List) ∷ (name_m, sort.List) ∷ []); pre = (record { opened = []; facts = ((Rel relation.Le (Number (pos 1)) (Var 1 sort.Int)) ∷ (Rel relation.Le (Of2 binary.Add (Var 1 sort.Int) (Number (pos 1))) (Var 0 sort.Int)) ∷ (Rel relation.Le (Of2 binary.Add (Var 0 sort.Int) (Var 1 sort.Int)) (Number (pos 65))) ∷ (Rel relation.Le (Number (pos 1)) (Of unary.Len (Var 4 sort.List))) ∷ []); locals = []; items = ((Data (Var 0 sort.Int) (Var 2 sort.Val) (Var 4 sort.List)) ∷ []) }); post = (record { opened = []; facts = ([]); locals = []; items = ((Data (Var 0 sort.Int) (Var 2 sort.Val) (Var 4 sort.List)) ∷ []) }) }) ∷ []) }) (record { is_void = true; name = name_f; params = (name_p ∷ []); vars = ((name_s, sort.Int) ∷ (name_t, sort.Int) ∷ (name_v, sort.Val) ∷ (name_w, sort.Val) ∷ (name_k, sort.List) ∷ (name_m, sort.List) ∷ []); pre = (record { opened = []; facts = ((Rel relation.Le (Number (pos 1)) (Var 1 sort.Int)) ∷ (Rel relation.Le (Of2 binary.Add (Var 1 sort.Int) (Number (pos 1))) (Var 0 sort.Int)) ∷ (Rel relation.Le (Of2 binary.Add (Var 0 sort.Int) (Var 1 sort.Int)) (Number (pos 65))) ∷ (Rel relation.Le (Number (pos 1)) (Of unary.Len (Var 4 sort.List))) ∷ []); locals = []; items = ((Data (Var 0 sort.Int) (Var 2 sort.Val) (Var 4 sort.List)) ∷ []) }); post = (record { opened = []; facts = ([]); locals = []; items = ((Data (Var 0 sort.Int) (Var 2 sort.Val) (Var 4 sort.List)) ∷ []) }) }) (record { temps = (name_p ∷ []); body = (c.Then (c.Return None) c.End) }) (s.Then 1 (s.Share 0 (Named name_v) ([])) s.NoBlock (s.Then 2 (s.Return ([]) ([]) ([])) s.NoBlock s.End)) ≡ (RefusedAt 1 31 1)
unfolding computing
conditions_743 = refl

conditions_744 : body_verdict (record { predicates = ((record { name = name_A; args = (sort.Int ∷ []); cases = ((record { opened = []; facts = ([]); locals = []; items = ([]) }) ∷ []) }) ∷ []); specs = ((record { is_void = true; name = name_f; params = (name_p ∷ []); vars = ((name_s, sort.Int) ∷ (name_t, sort.Int) ∷ (name_v, sort.Val) ∷ (name_w, sort.Val) ∷ (name_k, sort.List) ∷ (name_m, sort.List) ∷ []); pre = (record { opened = []; facts = ([]); locals = []; items = ((Data (Var 0 sort.Int) (Var 2 sort.Val) (Of2 binary.App (Var 4 sort.List) (Var 5 sort.List))) ∷ []) }); post = (record { opened = []; facts = ([]); locals = []; items = ((Data (Var 0 sort.Int) (Var 2 sort.Val) (Var 4 sort.List)) ∷ []) }) }) ∷ []) }) (record { is_void = true; name = name_f; params = (name_p ∷ []); vars = ((name_s, sort.Int) ∷ (name_t, sort.Int) ∷ (name_v, sort.Val) ∷ (name_w, sort.Val) ∷ (name_k, sort.List) ∷ (name_m, sort.List) ∷ []); pre = (record { opened = []; facts = ([]); locals = []; items = ((Data (Var 0 sort.Int) (Var 2 sort.Val) (Of2 binary.App (Var 4 sort.List) (Var 5 sort.List))) ∷ []) }); post = (record { opened = []; facts = ([]); locals = []; items = ((Data (Var 0 sort.Int) (Var 2 sort.Val) (Var 4 sort.List)) ∷ []) }) }) (record { temps = (name_p ∷ []); body = (c.Then (c.Return None) c.End) }) (s.Then 1 (s.Cut 1 (Named name_k) (Named name_m)) s.NoBlock (s.Then 2 (s.Return ([]) ([]) ([])) s.NoBlock s.End)) ≡ (RefusedAt 1 29 1)
unfolding computing
conditions_744 = refl

conditions_745 : body_verdict (record { predicates = ((record { name = name_A; args = (sort.Int ∷ []); cases = ((record { opened = []; facts = ([]); locals = []; items = ([]) }) ∷ []) }) ∷ []); specs = ((record { is_void = true; name = name_f; params = (name_p ∷ []); vars = ((name_s, sort.Int) ∷ (name_t, sort.Int) ∷ (name_v, sort.Val) ∷ (name_w, sort.Val) ∷ (name_k, sort.List) ∷ (name_m, sort.List) ∷ []); pre = (record { opened = []; facts = ((Rel relation.Le (Number (pos 1)) (Var 1 sort.Int)) ∷ (Rel relation.Le (Of2 binary.Add (Var 1 sort.Int) (Number (pos 1))) (Var 0 sort.Int)) ∷ (Rel relation.Le (Of2 binary.Add (Var 0 sort.Int) (Var 1 sort.Int)) (Number (pos 64))) ∷ (Rel relation.Le (Number (pos 1)) (Of unary.Len (Var 4 sort.List))) ∷ []); locals = []; items = ((Data (Var 0 sort.Int) (Var 2 sort.Val) (Of2 binary.App (Var 4 sort.List) (Var 5 sort.List))) ∷ []) }); post = (record { opened = []; facts = ([]); locals = []; items = ((Data (Var 0 sort.Int) (Var 2 sort.Val) (Var 4 sort.List)) ∷ []) }) }) ∷ []) }) (record { is_void = true; name = name_f; params = (name_p ∷ []); vars = ((name_s, sort.Int) ∷ (name_t, sort.Int) ∷ (name_v, sort.Val) ∷ (name_w, sort.Val) ∷ (name_k, sort.List) ∷ (name_m, sort.List) ∷ []); pre = (record { opened = []; facts = ((Rel relation.Le (Number (pos 1)) (Var 1 sort.Int)) ∷ (Rel relation.Le (Of2 binary.Add (Var 1 sort.Int) (Number (pos 1))) (Var 0 sort.Int)) ∷ (Rel relation.Le (Of2 binary.Add (Var 0 sort.Int) (Var 1 sort.Int)) (Number (pos 64))) ∷ (Rel relation.Le (Number (pos 1)) (Of unary.Len (Var 4 sort.List))) ∷ []); locals = []; items = ((Data (Var 0 sort.Int) (Var 2 sort.Val) (Of2 binary.App (Var 4 sort.List) (Var 5 sort.List))) ∷ []) }); post = (record { opened = []; facts = ([]); locals = []; items = ((Data (Var 0 sort.Int) (Var 2 sort.Val) (Var 4 sort.List)) ∷ []) }) }) (record { temps = (name_p ∷ []); body = (c.Then (c.Return None) c.End) }) (s.Then 1 (s.Cut 1 (Named name_k) (Named name_m)) s.NoBlock (s.Then 2 (s.Return ([]) ([]) ([])) s.NoBlock s.End)) ≡ (RefusedAt 1 29 1)
unfolding computing
conditions_745 = refl

conditions_746 : body_verdict (record { predicates = ((record { name = name_A; args = (sort.Int ∷ []); cases = ((record { opened = []; facts = ([]); locals = []; items = ([]) }) ∷ []) }) ∷ []); specs = ((record { is_void = true; name = name_f; params = (name_p ∷ []); vars = ((name_s, sort.Int) ∷ (name_t, sort.Int) ∷ (name_v, sort.Val) ∷ (name_w, sort.Val) ∷ (name_k, sort.List) ∷ (name_m, sort.List) ∷ []); pre = (record { opened = []; facts = ((Rel relation.Le (Number (pos 1)) (Var 1 sort.Int)) ∷ (Rel relation.Le (Of2 binary.Add (Var 1 sort.Int) (Number (pos 1))) (Var 0 sort.Int)) ∷ (Rel relation.Le (Of2 binary.Add (Var 0 sort.Int) (Var 1 sort.Int)) (Number (pos 65))) ∷ (Rel relation.Le (Number (pos 1)) (Of unary.Len (Var 4 sort.List))) ∷ []); locals = []; items = ((Data (Var 0 sort.Int) (Var 2 sort.Val) (Of2 binary.App (Var 4 sort.List) (Var 5 sort.List))) ∷ []) }); post = (record { opened = []; facts = ([]); locals = []; items = ((Data (Var 0 sort.Int) (Var 2 sort.Val) (Var 4 sort.List)) ∷ []) }) }) ∷ []) }) (record { is_void = true; name = name_f; params = (name_p ∷ []); vars = ((name_s, sort.Int) ∷ (name_t, sort.Int) ∷ (name_v, sort.Val) ∷ (name_w, sort.Val) ∷ (name_k, sort.List) ∷ (name_m, sort.List) ∷ []); pre = (record { opened = []; facts = ((Rel relation.Le (Number (pos 1)) (Var 1 sort.Int)) ∷ (Rel relation.Le (Of2 binary.Add (Var 1 sort.Int) (Number (pos 1))) (Var 0 sort.Int)) ∷ (Rel relation.Le (Of2 binary.Add (Var 0 sort.Int) (Var 1 sort.Int)) (Number (pos 65))) ∷ (Rel relation.Le (Number (pos 1)) (Of unary.Len (Var 4 sort.List))) ∷ []); locals = []; items = ((Data (Var 0 sort.Int) (Var 2 sort.Val) (Of2 binary.App (Var 4 sort.List) (Var 5 sort.List))) ∷ []) }); post = (record { opened = []; facts = ([]); locals = []; items = ((Data (Var 0 sort.Int) (Var 2 sort.Val) (Var 4 sort.List)) ∷ []) }) }) (record { temps = (name_p ∷ []); body = (c.Then (c.Return None) c.End) }) (s.Then 1 (s.Cut 1 (Named name_k) (Named name_m)) s.NoBlock (s.Then 2 (s.Return ([]) ([]) ([])) s.NoBlock s.End)) ≡ (RefusedAt 1 29 1)
unfolding computing
conditions_746 = refl

conditions_747 : body_verdict (record { predicates = ((record { name = name_A; args = (sort.Int ∷ []); cases = ((record { opened = []; facts = ([]); locals = []; items = ([]) }) ∷ []) }) ∷ []); specs = ((record { is_void = true; name = name_f; params = (name_p ∷ []); vars = ((name_s, sort.Int) ∷ (name_t, sort.Int) ∷ (name_v, sort.Val) ∷ (name_w, sort.Val) ∷ (name_k, sort.List) ∷ (name_m, sort.List) ∷ []); pre = (record { opened = []; facts = ([]); locals = []; items = ((Data (Var 0 sort.Int) (Var 2 sort.Val) (Var 4 sort.List)) ∷ (Data (Var 0 sort.Int) (Of2 binary.Off (Var 2 sort.Val) (Of unary.Len (Var 4 sort.List))) (Var 5 sort.List)) ∷ []) }); post = (record { opened = []; facts = ([]); locals = []; items = ((Data (Var 0 sort.Int) (Var 2 sort.Val) (Of2 binary.App (Var 4 sort.List) (Var 5 sort.List))) ∷ []) }) }) ∷ []) }) (record { is_void = true; name = name_f; params = (name_p ∷ []); vars = ((name_s, sort.Int) ∷ (name_t, sort.Int) ∷ (name_v, sort.Val) ∷ (name_w, sort.Val) ∷ (name_k, sort.List) ∷ (name_m, sort.List) ∷ []); pre = (record { opened = []; facts = ([]); locals = []; items = ((Data (Var 0 sort.Int) (Var 2 sort.Val) (Var 4 sort.List)) ∷ (Data (Var 0 sort.Int) (Of2 binary.Off (Var 2 sort.Val) (Of unary.Len (Var 4 sort.List))) (Var 5 sort.List)) ∷ []) }); post = (record { opened = []; facts = ([]); locals = []; items = ((Data (Var 0 sort.Int) (Var 2 sort.Val) (Of2 binary.App (Var 4 sort.List) (Var 5 sort.List))) ∷ []) }) }) (record { temps = (name_p ∷ []); body = (c.Then (c.Return None) c.End) }) (s.Then 1 (s.Glue 0 1) s.NoBlock (s.Then 2 (s.Return ([]) ([]) ([])) s.NoBlock s.End)) ≡ Accepted
unfolding computing
conditions_747 = refl

conditions_748 : body_verdict (record { predicates = ((record { name = name_A; args = (sort.Int ∷ []); cases = ((record { opened = []; facts = ([]); locals = []; items = ([]) }) ∷ []) }) ∷ []); specs = ((record { is_void = true; name = name_f; params = (name_p ∷ []); vars = ((name_s, sort.Int) ∷ (name_t, sort.Int) ∷ (name_v, sort.Val) ∷ (name_w, sort.Val) ∷ (name_k, sort.List) ∷ (name_m, sort.List) ∷ []); pre = (record { opened = []; facts = ((Rel relation.Le (Number (pos 1)) (Var 1 sort.Int)) ∷ (Rel relation.Le (Of2 binary.Add (Var 1 sort.Int) (Number (pos 1))) (Var 0 sort.Int)) ∷ (Rel relation.Le (Of2 binary.Add (Var 0 sort.Int) (Var 1 sort.Int)) (Number (pos 64))) ∷ (Rel relation.Le (Number (pos 1)) (Of unary.Len (Var 4 sort.List))) ∷ []); locals = []; items = ((Data (Var 0 sort.Int) (Var 2 sort.Val) (Var 4 sort.List)) ∷ (Data (Var 0 sort.Int) (Of2 binary.Off (Var 2 sort.Val) (Of unary.Len (Var 4 sort.List))) (Var 5 sort.List)) ∷ []) }); post = (record { opened = []; facts = ([]); locals = []; items = ((Data (Var 0 sort.Int) (Var 2 sort.Val) (Of2 binary.App (Var 4 sort.List) (Var 5 sort.List))) ∷ []) }) }) ∷ []) }) (record { is_void = true; name = name_f; params = (name_p ∷ []); vars = ((name_s, sort.Int) ∷ (name_t, sort.Int) ∷ (name_v, sort.Val) ∷ (name_w, sort.Val) ∷ (name_k, sort.List) ∷ (name_m, sort.List) ∷ []); pre = (record { opened = []; facts = ((Rel relation.Le (Number (pos 1)) (Var 1 sort.Int)) ∷ (Rel relation.Le (Of2 binary.Add (Var 1 sort.Int) (Number (pos 1))) (Var 0 sort.Int)) ∷ (Rel relation.Le (Of2 binary.Add (Var 0 sort.Int) (Var 1 sort.Int)) (Number (pos 64))) ∷ (Rel relation.Le (Number (pos 1)) (Of unary.Len (Var 4 sort.List))) ∷ []); locals = []; items = ((Data (Var 0 sort.Int) (Var 2 sort.Val) (Var 4 sort.List)) ∷ (Data (Var 0 sort.Int) (Of2 binary.Off (Var 2 sort.Val) (Of unary.Len (Var 4 sort.List))) (Var 5 sort.List)) ∷ []) }); post = (record { opened = []; facts = ([]); locals = []; items = ((Data (Var 0 sort.Int) (Var 2 sort.Val) (Of2 binary.App (Var 4 sort.List) (Var 5 sort.List))) ∷ []) }) }) (record { temps = (name_p ∷ []); body = (c.Then (c.Return None) c.End) }) (s.Then 1 (s.Glue 0 1) s.NoBlock (s.Then 2 (s.Return ([]) ([]) ([])) s.NoBlock s.End)) ≡ Accepted
unfolding computing
conditions_748 = refl

conditions_749 : body_verdict (record { predicates = ((record { name = name_A; args = (sort.Int ∷ []); cases = ((record { opened = []; facts = ([]); locals = []; items = ([]) }) ∷ []) }) ∷ []); specs = ((record { is_void = true; name = name_f; params = (name_p ∷ []); vars = ((name_s, sort.Int) ∷ (name_t, sort.Int) ∷ (name_v, sort.Val) ∷ (name_w, sort.Val) ∷ (name_k, sort.List) ∷ (name_m, sort.List) ∷ []); pre = (record { opened = []; facts = ((Rel relation.Le (Number (pos 1)) (Var 1 sort.Int)) ∷ (Rel relation.Le (Of2 binary.Add (Var 1 sort.Int) (Number (pos 1))) (Var 0 sort.Int)) ∷ (Rel relation.Le (Of2 binary.Add (Var 0 sort.Int) (Var 1 sort.Int)) (Number (pos 65))) ∷ (Rel relation.Le (Number (pos 1)) (Of unary.Len (Var 4 sort.List))) ∷ []); locals = []; items = ((Data (Var 0 sort.Int) (Var 2 sort.Val) (Var 4 sort.List)) ∷ (Data (Var 0 sort.Int) (Of2 binary.Off (Var 2 sort.Val) (Of unary.Len (Var 4 sort.List))) (Var 5 sort.List)) ∷ []) }); post = (record { opened = []; facts = ([]); locals = []; items = ((Data (Var 0 sort.Int) (Var 2 sort.Val) (Of2 binary.App (Var 4 sort.List) (Var 5 sort.List))) ∷ []) }) }) ∷ []) }) (record { is_void = true; name = name_f; params = (name_p ∷ []); vars = ((name_s, sort.Int) ∷ (name_t, sort.Int) ∷ (name_v, sort.Val) ∷ (name_w, sort.Val) ∷ (name_k, sort.List) ∷ (name_m, sort.List) ∷ []); pre = (record { opened = []; facts = ((Rel relation.Le (Number (pos 1)) (Var 1 sort.Int)) ∷ (Rel relation.Le (Of2 binary.Add (Var 1 sort.Int) (Number (pos 1))) (Var 0 sort.Int)) ∷ (Rel relation.Le (Of2 binary.Add (Var 0 sort.Int) (Var 1 sort.Int)) (Number (pos 65))) ∷ (Rel relation.Le (Number (pos 1)) (Of unary.Len (Var 4 sort.List))) ∷ []); locals = []; items = ((Data (Var 0 sort.Int) (Var 2 sort.Val) (Var 4 sort.List)) ∷ (Data (Var 0 sort.Int) (Of2 binary.Off (Var 2 sort.Val) (Of unary.Len (Var 4 sort.List))) (Var 5 sort.List)) ∷ []) }); post = (record { opened = []; facts = ([]); locals = []; items = ((Data (Var 0 sort.Int) (Var 2 sort.Val) (Of2 binary.App (Var 4 sort.List) (Var 5 sort.List))) ∷ []) }) }) (record { temps = (name_p ∷ []); body = (c.Then (c.Return None) c.End) }) (s.Then 1 (s.Glue 0 1) s.NoBlock (s.Then 2 (s.Return ([]) ([]) ([])) s.NoBlock s.End)) ≡ Accepted
unfolding computing
conditions_749 = refl

conditions_750 : body_verdict (record { predicates = ((record { name = name_A; args = (sort.Int ∷ []); cases = ((record { opened = []; facts = ([]); locals = []; items = ([]) }) ∷ []) }) ∷ []); specs = ((record { is_void = true; name = name_f; params = (name_p ∷ []); vars = ((name_s, sort.Int) ∷ (name_t, sort.Int) ∷ (name_v, sort.Val) ∷ (name_w, sort.Val) ∷ (name_k, sort.List) ∷ (name_m, sort.List) ∷ []); pre = (record { opened = []; facts = ([]); locals = []; items = ((Data (Var 0 sort.Int) (Var 2 sort.Val) (Var 4 sort.List)) ∷ (Data (Var 0 sort.Int) (Of2 binary.Off (Var 2 sort.Val) (Of unary.Len (Var 4 sort.List))) (Var 5 sort.List)) ∷ []) }); post = (record { opened = []; facts = ([]); locals = []; items = ((Data (Var 0 sort.Int) (Var 2 sort.Val) (Of2 binary.App (Var 5 sort.List) (Var 4 sort.List))) ∷ []) }) }) ∷ []) }) (record { is_void = true; name = name_f; params = (name_p ∷ []); vars = ((name_s, sort.Int) ∷ (name_t, sort.Int) ∷ (name_v, sort.Val) ∷ (name_w, sort.Val) ∷ (name_k, sort.List) ∷ (name_m, sort.List) ∷ []); pre = (record { opened = []; facts = ([]); locals = []; items = ((Data (Var 0 sort.Int) (Var 2 sort.Val) (Var 4 sort.List)) ∷ (Data (Var 0 sort.Int) (Of2 binary.Off (Var 2 sort.Val) (Of unary.Len (Var 4 sort.List))) (Var 5 sort.List)) ∷ []) }); post = (record { opened = []; facts = ([]); locals = []; items = ((Data (Var 0 sort.Int) (Var 2 sort.Val) (Of2 binary.App (Var 5 sort.List) (Var 4 sort.List))) ∷ []) }) }) (record { temps = (name_p ∷ []); body = (c.Then (c.Return None) c.End) }) (s.Then 1 (s.Glue 0 1) s.NoBlock (s.Then 2 (s.Return ([]) ([]) ([])) s.NoBlock s.End)) ≡ (RefusedAt 2 9 5)
unfolding computing
conditions_750 = refl

conditions_751 : body_verdict (record { predicates = ((record { name = name_A; args = (sort.Int ∷ []); cases = ((record { opened = []; facts = ([]); locals = []; items = ([]) }) ∷ []) }) ∷ []); specs = ((record { is_void = true; name = name_f; params = (name_p ∷ []); vars = ((name_s, sort.Int) ∷ (name_t, sort.Int) ∷ (name_v, sort.Val) ∷ (name_w, sort.Val) ∷ (name_k, sort.List) ∷ (name_m, sort.List) ∷ []); pre = (record { opened = []; facts = ((Rel relation.Le (Number (pos 1)) (Var 1 sort.Int)) ∷ (Rel relation.Le (Of2 binary.Add (Var 1 sort.Int) (Number (pos 1))) (Var 0 sort.Int)) ∷ (Rel relation.Le (Of2 binary.Add (Var 0 sort.Int) (Var 1 sort.Int)) (Number (pos 64))) ∷ (Rel relation.Le (Number (pos 1)) (Of unary.Len (Var 4 sort.List))) ∷ []); locals = []; items = ((Data (Var 0 sort.Int) (Var 2 sort.Val) (Var 4 sort.List)) ∷ (Data (Var 0 sort.Int) (Of2 binary.Off (Var 2 sort.Val) (Of unary.Len (Var 4 sort.List))) (Var 5 sort.List)) ∷ []) }); post = (record { opened = []; facts = ([]); locals = []; items = ((Data (Var 0 sort.Int) (Var 2 sort.Val) (Of2 binary.App (Var 5 sort.List) (Var 4 sort.List))) ∷ []) }) }) ∷ []) }) (record { is_void = true; name = name_f; params = (name_p ∷ []); vars = ((name_s, sort.Int) ∷ (name_t, sort.Int) ∷ (name_v, sort.Val) ∷ (name_w, sort.Val) ∷ (name_k, sort.List) ∷ (name_m, sort.List) ∷ []); pre = (record { opened = []; facts = ((Rel relation.Le (Number (pos 1)) (Var 1 sort.Int)) ∷ (Rel relation.Le (Of2 binary.Add (Var 1 sort.Int) (Number (pos 1))) (Var 0 sort.Int)) ∷ (Rel relation.Le (Of2 binary.Add (Var 0 sort.Int) (Var 1 sort.Int)) (Number (pos 64))) ∷ (Rel relation.Le (Number (pos 1)) (Of unary.Len (Var 4 sort.List))) ∷ []); locals = []; items = ((Data (Var 0 sort.Int) (Var 2 sort.Val) (Var 4 sort.List)) ∷ (Data (Var 0 sort.Int) (Of2 binary.Off (Var 2 sort.Val) (Of unary.Len (Var 4 sort.List))) (Var 5 sort.List)) ∷ []) }); post = (record { opened = []; facts = ([]); locals = []; items = ((Data (Var 0 sort.Int) (Var 2 sort.Val) (Of2 binary.App (Var 5 sort.List) (Var 4 sort.List))) ∷ []) }) }) (record { temps = (name_p ∷ []); body = (c.Then (c.Return None) c.End) }) (s.Then 1 (s.Glue 0 1) s.NoBlock (s.Then 2 (s.Return ([]) ([]) ([])) s.NoBlock s.End)) ≡ (RefusedAt 2 9 5)
unfolding computing
conditions_751 = refl

conditions_752 : body_verdict (record { predicates = ((record { name = name_A; args = (sort.Int ∷ []); cases = ((record { opened = []; facts = ([]); locals = []; items = ([]) }) ∷ []) }) ∷ []); specs = ((record { is_void = true; name = name_f; params = (name_p ∷ []); vars = ((name_s, sort.Int) ∷ (name_t, sort.Int) ∷ (name_v, sort.Val) ∷ (name_w, sort.Val) ∷ (name_k, sort.List) ∷ (name_m, sort.List) ∷ []); pre = (record { opened = []; facts = ((Rel relation.Le (Number (pos 1)) (Var 1 sort.Int)) ∷ (Rel relation.Le (Of2 binary.Add (Var 1 sort.Int) (Number (pos 1))) (Var 0 sort.Int)) ∷ (Rel relation.Le (Of2 binary.Add (Var 0 sort.Int) (Var 1 sort.Int)) (Number (pos 65))) ∷ (Rel relation.Le (Number (pos 1)) (Of unary.Len (Var 4 sort.List))) ∷ []); locals = []; items = ((Data (Var 0 sort.Int) (Var 2 sort.Val) (Var 4 sort.List)) ∷ (Data (Var 0 sort.Int) (Of2 binary.Off (Var 2 sort.Val) (Of unary.Len (Var 4 sort.List))) (Var 5 sort.List)) ∷ []) }); post = (record { opened = []; facts = ([]); locals = []; items = ((Data (Var 0 sort.Int) (Var 2 sort.Val) (Of2 binary.App (Var 5 sort.List) (Var 4 sort.List))) ∷ []) }) }) ∷ []) }) (record { is_void = true; name = name_f; params = (name_p ∷ []); vars = ((name_s, sort.Int) ∷ (name_t, sort.Int) ∷ (name_v, sort.Val) ∷ (name_w, sort.Val) ∷ (name_k, sort.List) ∷ (name_m, sort.List) ∷ []); pre = (record { opened = []; facts = ((Rel relation.Le (Number (pos 1)) (Var 1 sort.Int)) ∷ (Rel relation.Le (Of2 binary.Add (Var 1 sort.Int) (Number (pos 1))) (Var 0 sort.Int)) ∷ (Rel relation.Le (Of2 binary.Add (Var 0 sort.Int) (Var 1 sort.Int)) (Number (pos 65))) ∷ (Rel relation.Le (Number (pos 1)) (Of unary.Len (Var 4 sort.List))) ∷ []); locals = []; items = ((Data (Var 0 sort.Int) (Var 2 sort.Val) (Var 4 sort.List)) ∷ (Data (Var 0 sort.Int) (Of2 binary.Off (Var 2 sort.Val) (Of unary.Len (Var 4 sort.List))) (Var 5 sort.List)) ∷ []) }); post = (record { opened = []; facts = ([]); locals = []; items = ((Data (Var 0 sort.Int) (Var 2 sort.Val) (Of2 binary.App (Var 5 sort.List) (Var 4 sort.List))) ∷ []) }) }) (record { temps = (name_p ∷ []); body = (c.Then (c.Return None) c.End) }) (s.Then 1 (s.Glue 0 1) s.NoBlock (s.Then 2 (s.Return ([]) ([]) ([])) s.NoBlock s.End)) ≡ (RefusedAt 2 9 5)
unfolding computing
conditions_752 = refl

conditions_753 : body_verdict (record { predicates = ((record { name = name_A; args = (sort.Int ∷ []); cases = ((record { opened = []; facts = ([]); locals = []; items = ([]) }) ∷ []) }) ∷ []); specs = ((record { is_void = true; name = name_f; params = (name_p ∷ []); vars = ((name_s, sort.Int) ∷ (name_t, sort.Int) ∷ (name_v, sort.Val) ∷ (name_w, sort.Val) ∷ (name_k, sort.List) ∷ (name_m, sort.List) ∷ []); pre = (record { opened = []; facts = ([]); locals = []; items = ((Data (Var 0 sort.Int) (Var 2 sort.Val) (Var 4 sort.List)) ∷ (Data (Var 0 sort.Int) (Of2 binary.Off (Var 2 sort.Val) (Of unary.Len (Var 5 sort.List))) (Var 5 sort.List)) ∷ []) }); post = (record { opened = []; facts = ([]); locals = []; items = ((Data (Var 0 sort.Int) (Var 2 sort.Val) (Of2 binary.App (Var 4 sort.List) (Var 5 sort.List))) ∷ []) }) }) ∷ []) }) (record { is_void = true; name = name_f; params = (name_p ∷ []); vars = ((name_s, sort.Int) ∷ (name_t, sort.Int) ∷ (name_v, sort.Val) ∷ (name_w, sort.Val) ∷ (name_k, sort.List) ∷ (name_m, sort.List) ∷ []); pre = (record { opened = []; facts = ([]); locals = []; items = ((Data (Var 0 sort.Int) (Var 2 sort.Val) (Var 4 sort.List)) ∷ (Data (Var 0 sort.Int) (Of2 binary.Off (Var 2 sort.Val) (Of unary.Len (Var 5 sort.List))) (Var 5 sort.List)) ∷ []) }); post = (record { opened = []; facts = ([]); locals = []; items = ((Data (Var 0 sort.Int) (Var 2 sort.Val) (Of2 binary.App (Var 4 sort.List) (Var 5 sort.List))) ∷ []) }) }) (record { temps = (name_p ∷ []); body = (c.Then (c.Return None) c.End) }) (s.Then 1 (s.Glue 0 1) s.NoBlock (s.Then 2 (s.Return ([]) ([]) ([])) s.NoBlock s.End)) ≡ (RefusedAt 1 30 1)
unfolding computing
conditions_753 = refl

conditions_754 : body_verdict (record { predicates = ((record { name = name_A; args = (sort.Int ∷ []); cases = ((record { opened = []; facts = ([]); locals = []; items = ([]) }) ∷ []) }) ∷ []); specs = ((record { is_void = true; name = name_f; params = (name_p ∷ []); vars = ((name_s, sort.Int) ∷ (name_t, sort.Int) ∷ (name_v, sort.Val) ∷ (name_w, sort.Val) ∷ (name_k, sort.List) ∷ (name_m, sort.List) ∷ []); pre = (record { opened = []; facts = ((Rel relation.Le (Number (pos 1)) (Var 1 sort.Int)) ∷ (Rel relation.Le (Of2 binary.Add (Var 1 sort.Int) (Number (pos 1))) (Var 0 sort.Int)) ∷ (Rel relation.Le (Of2 binary.Add (Var 0 sort.Int) (Var 1 sort.Int)) (Number (pos 64))) ∷ (Rel relation.Le (Number (pos 1)) (Of unary.Len (Var 4 sort.List))) ∷ []); locals = []; items = ((Data (Var 0 sort.Int) (Var 2 sort.Val) (Var 4 sort.List)) ∷ (Data (Var 0 sort.Int) (Of2 binary.Off (Var 2 sort.Val) (Of unary.Len (Var 5 sort.List))) (Var 5 sort.List)) ∷ []) }); post = (record { opened = []; facts = ([]); locals = []; items = ((Data (Var 0 sort.Int) (Var 2 sort.Val) (Of2 binary.App (Var 4 sort.List) (Var 5 sort.List))) ∷ []) }) }) ∷ []) }) (record { is_void = true; name = name_f; params = (name_p ∷ []); vars = ((name_s, sort.Int) ∷ (name_t, sort.Int) ∷ (name_v, sort.Val) ∷ (name_w, sort.Val) ∷ (name_k, sort.List) ∷ (name_m, sort.List) ∷ []); pre = (record { opened = []; facts = ((Rel relation.Le (Number (pos 1)) (Var 1 sort.Int)) ∷ (Rel relation.Le (Of2 binary.Add (Var 1 sort.Int) (Number (pos 1))) (Var 0 sort.Int)) ∷ (Rel relation.Le (Of2 binary.Add (Var 0 sort.Int) (Var 1 sort.Int)) (Number (pos 64))) ∷ (Rel relation.Le (Number (pos 1)) (Of unary.Len (Var 4 sort.List))) ∷ []); locals = []; items = ((Data (Var 0 sort.Int) (Var 2 sort.Val) (Var 4 sort.List)) ∷ (Data (Var 0 sort.Int) (Of2 binary.Off (Var 2 sort.Val) (Of unary.Len (Var 5 sort.List))) (Var 5 sort.List)) ∷ []) }); post = (record { opened = []; facts = ([]); locals = []; items = ((Data (Var 0 sort.Int) (Var 2 sort.Val) (Of2 binary.App (Var 4 sort.List) (Var 5 sort.List))) ∷ []) }) }) (record { temps = (name_p ∷ []); body = (c.Then (c.Return None) c.End) }) (s.Then 1 (s.Glue 0 1) s.NoBlock (s.Then 2 (s.Return ([]) ([]) ([])) s.NoBlock s.End)) ≡ (RefusedAt 1 30 1)
unfolding computing
conditions_754 = refl

conditions_755 : body_verdict (record { predicates = ((record { name = name_A; args = (sort.Int ∷ []); cases = ((record { opened = []; facts = ([]); locals = []; items = ([]) }) ∷ []) }) ∷ []); specs = ((record { is_void = true; name = name_f; params = (name_p ∷ []); vars = ((name_s, sort.Int) ∷ (name_t, sort.Int) ∷ (name_v, sort.Val) ∷ (name_w, sort.Val) ∷ (name_k, sort.List) ∷ (name_m, sort.List) ∷ []); pre = (record { opened = []; facts = ((Rel relation.Le (Number (pos 1)) (Var 1 sort.Int)) ∷ (Rel relation.Le (Of2 binary.Add (Var 1 sort.Int) (Number (pos 1))) (Var 0 sort.Int)) ∷ (Rel relation.Le (Of2 binary.Add (Var 0 sort.Int) (Var 1 sort.Int)) (Number (pos 65))) ∷ (Rel relation.Le (Number (pos 1)) (Of unary.Len (Var 4 sort.List))) ∷ []); locals = []; items = ((Data (Var 0 sort.Int) (Var 2 sort.Val) (Var 4 sort.List)) ∷ (Data (Var 0 sort.Int) (Of2 binary.Off (Var 2 sort.Val) (Of unary.Len (Var 5 sort.List))) (Var 5 sort.List)) ∷ []) }); post = (record { opened = []; facts = ([]); locals = []; items = ((Data (Var 0 sort.Int) (Var 2 sort.Val) (Of2 binary.App (Var 4 sort.List) (Var 5 sort.List))) ∷ []) }) }) ∷ []) }) (record { is_void = true; name = name_f; params = (name_p ∷ []); vars = ((name_s, sort.Int) ∷ (name_t, sort.Int) ∷ (name_v, sort.Val) ∷ (name_w, sort.Val) ∷ (name_k, sort.List) ∷ (name_m, sort.List) ∷ []); pre = (record { opened = []; facts = ((Rel relation.Le (Number (pos 1)) (Var 1 sort.Int)) ∷ (Rel relation.Le (Of2 binary.Add (Var 1 sort.Int) (Number (pos 1))) (Var 0 sort.Int)) ∷ (Rel relation.Le (Of2 binary.Add (Var 0 sort.Int) (Var 1 sort.Int)) (Number (pos 65))) ∷ (Rel relation.Le (Number (pos 1)) (Of unary.Len (Var 4 sort.List))) ∷ []); locals = []; items = ((Data (Var 0 sort.Int) (Var 2 sort.Val) (Var 4 sort.List)) ∷ (Data (Var 0 sort.Int) (Of2 binary.Off (Var 2 sort.Val) (Of unary.Len (Var 5 sort.List))) (Var 5 sort.List)) ∷ []) }); post = (record { opened = []; facts = ([]); locals = []; items = ((Data (Var 0 sort.Int) (Var 2 sort.Val) (Of2 binary.App (Var 4 sort.List) (Var 5 sort.List))) ∷ []) }) }) (record { temps = (name_p ∷ []); body = (c.Then (c.Return None) c.End) }) (s.Then 1 (s.Glue 0 1) s.NoBlock (s.Then 2 (s.Return ([]) ([]) ([])) s.NoBlock s.End)) ≡ (RefusedAt 1 30 1)
unfolding computing
conditions_755 = refl

conditions_756 : body_verdict (record { predicates = ([]); specs = ((record { is_void = true; name = name_f; params = (name_p ∷ []); vars = ((name_s, sort.Int) ∷ (name_t, sort.Int) ∷ (name_v, sort.Val) ∷ (name_w, sort.Val) ∷ (name_k, sort.List) ∷ (name_m, sort.List) ∷ []); pre = (record { opened = []; facts = ([]); locals = []; items = ((Data (Var 0 sort.Int) (Var 2 sort.Val) (Var 4 sort.List)) ∷ []) }); post = (record { opened = []; facts = ([]); locals = []; items = ((Data (Var 0 sort.Int) (Var 2 sort.Val) (Var 4 sort.List)) ∷ []) }) }) ∷ []) }) (record { is_void = true; name = name_f; params = (name_p ∷ []); vars = ((name_s, sort.Int) ∷ (name_t, sort.Int) ∷ (name_v, sort.Val) ∷ (name_w, sort.Val) ∷ (name_k, sort.List) ∷ (name_m, sort.List) ∷ []); pre = (record { opened = []; facts = ([]); locals = []; items = ((Data (Var 0 sort.Int) (Var 2 sort.Val) (Var 4 sort.List)) ∷ []) }); post = (record { opened = []; facts = ([]); locals = []; items = ((Data (Var 0 sort.Int) (Var 2 sort.Val) (Var 4 sort.List)) ∷ []) }) }) (record { temps = (name_p ∷ []); body = (c.Then (c.Return None) c.End) }) (s.Then 1 (s.Pose (record { opened = []; facts = ((Rel relation.Le (Named name_s) (Named name_t)) ∷ []); locals = []; items = ((Data (Named name_s) (Named name_v) (Named name_k)) ∷ []) }) ([]) ([])) (s.WithBlock (s.Then 2 (s.Meet ([]) ([])) s.NoBlock s.End) s.NoBlock) (s.Then 3 (s.Return ([]) ([]) ([])) s.NoBlock s.End)) ≡ (RefusedAt 2 37 3)
unfolding computing
conditions_756 = refl

conditions_757 : body_verdict (record { predicates = ([]); specs = ((record { is_void = true; name = name_f; params = (name_p ∷ []); vars = ((name_s, sort.Int) ∷ (name_t, sort.Int) ∷ (name_v, sort.Val) ∷ (name_w, sort.Val) ∷ (name_k, sort.List) ∷ (name_m, sort.List) ∷ []); pre = (record { opened = []; facts = ([]); locals = []; items = ((Data (Var 0 sort.Int) (Var 2 sort.Val) (Var 4 sort.List)) ∷ []) }); post = (record { opened = []; facts = ([]); locals = []; items = ((Data (Var 0 sort.Int) (Var 2 sort.Val) (Var 4 sort.List)) ∷ []) }) }) ∷ []) }) (record { is_void = true; name = name_f; params = (name_p ∷ []); vars = ((name_s, sort.Int) ∷ (name_t, sort.Int) ∷ (name_v, sort.Val) ∷ (name_w, sort.Val) ∷ (name_k, sort.List) ∷ (name_m, sort.List) ∷ []); pre = (record { opened = []; facts = ([]); locals = []; items = ((Data (Var 0 sort.Int) (Var 2 sort.Val) (Var 4 sort.List)) ∷ []) }); post = (record { opened = []; facts = ([]); locals = []; items = ((Data (Var 0 sort.Int) (Var 2 sort.Val) (Var 4 sort.List)) ∷ []) }) }) (record { temps = (name_p ∷ []); body = (c.Then (c.Return None) c.End) }) (s.Then 1 (s.Pose (record { opened = []; facts = ((Rel relation.Le (Named name_s) (Named name_s)) ∷ []); locals = []; items = ((Data (Named name_s) (Named name_v) (Named name_k)) ∷ []) }) ([]) ([])) (s.WithBlock (s.Then 2 (s.Meet ([]) ([])) s.NoBlock s.End) s.NoBlock) (s.Then 3 (s.Return ([]) ([]) ([])) s.NoBlock s.End)) ≡ (RefusedAt 2 37 3)
unfolding computing
conditions_757 = refl

conditions_758 : body_verdict (record { predicates = ([]); specs = ((record { is_void = true; name = name_f; params = (name_p ∷ []); vars = ((name_s, sort.Int) ∷ (name_t, sort.Int) ∷ (name_v, sort.Val) ∷ (name_w, sort.Val) ∷ (name_k, sort.List) ∷ (name_m, sort.List) ∷ []); pre = (record { opened = []; facts = ([]); locals = []; items = ((Data (Var 0 sort.Int) (Var 2 sort.Val) (Var 4 sort.List)) ∷ []) }); post = (record { opened = []; facts = ([]); locals = []; items = ((Data (Var 0 sort.Int) (Var 2 sort.Val) (Var 4 sort.List)) ∷ []) }) }) ∷ []) }) (record { is_void = true; name = name_f; params = (name_p ∷ []); vars = ((name_s, sort.Int) ∷ (name_t, sort.Int) ∷ (name_v, sort.Val) ∷ (name_w, sort.Val) ∷ (name_k, sort.List) ∷ (name_m, sort.List) ∷ []); pre = (record { opened = []; facts = ([]); locals = []; items = ((Data (Var 0 sort.Int) (Var 2 sort.Val) (Var 4 sort.List)) ∷ []) }); post = (record { opened = []; facts = ([]); locals = []; items = ((Data (Var 0 sort.Int) (Var 2 sort.Val) (Var 4 sort.List)) ∷ []) }) }) (record { temps = (name_p ∷ []); body = (c.Then (c.Return None) c.End) }) (s.Then 1 (s.Pose (record { opened = (sort.Int ∷ []); facts = ((Rel relation.Eq (Var 0 sort.Int) (Named name_s)) ∷ []); locals = []; items = ((Data (Var 0 sort.Int) (Named name_v) (Named name_k)) ∷ []) }) (name_j ∷ []) ([])) (s.WithBlock (s.Then 2 (s.Meet ((Named name_s) ∷ []) ([])) s.NoBlock s.End) s.NoBlock) (s.Then 3 (s.Have (Rel relation.Eq (Named name_j) (Named name_s)) ([])) s.NoBlock (s.Then 4 (s.Subst name_j) s.NoBlock (s.Then 5 (s.Return ([]) ([]) ([])) s.NoBlock s.End)))) ≡ Accepted
unfolding computing
conditions_758 = refl

conditions_759 : body_verdict (record { predicates = ([]); specs = ((record { is_void = true; name = name_f; params = (name_p ∷ []); vars = ((name_s, sort.Int) ∷ (name_t, sort.Int) ∷ (name_v, sort.Val) ∷ (name_w, sort.Val) ∷ (name_k, sort.List) ∷ (name_m, sort.List) ∷ []); pre = (record { opened = []; facts = ([]); locals = []; items = ((Data (Var 0 sort.Int) (Var 2 sort.Val) (Var 4 sort.List)) ∷ []) }); post = (record { opened = []; facts = ([]); locals = []; items = ((Data (Var 0 sort.Int) (Var 2 sort.Val) (Var 4 sort.List)) ∷ []) }) }) ∷ []) }) (record { is_void = true; name = name_f; params = (name_p ∷ []); vars = ((name_s, sort.Int) ∷ (name_t, sort.Int) ∷ (name_v, sort.Val) ∷ (name_w, sort.Val) ∷ (name_k, sort.List) ∷ (name_m, sort.List) ∷ []); pre = (record { opened = []; facts = ([]); locals = []; items = ((Data (Var 0 sort.Int) (Var 2 sort.Val) (Var 4 sort.List)) ∷ []) }); post = (record { opened = []; facts = ([]); locals = []; items = ((Data (Var 0 sort.Int) (Var 2 sort.Val) (Var 4 sort.List)) ∷ []) }) }) (record { temps = (name_p ∷ []); body = (c.Then (c.Return None) c.End) }) (s.Then 1 (s.Pose (record { opened = (sort.Int ∷ []); facts = ((Rel relation.Eq (Var 0 sort.Int) (Named name_s)) ∷ []); locals = []; items = ((Data (Var 0 sort.Int) (Named name_v) (Named name_k)) ∷ []) }) (name_j ∷ []) ([])) (s.WithBlock (s.Then 2 (s.Meet ((Named name_t) ∷ []) ([])) s.NoBlock s.End) s.NoBlock) (s.Then 3 (s.Return ([]) ([]) ([])) s.NoBlock s.End)) ≡ (RefusedAt 2 37 3)
unfolding computing
conditions_759 = refl

conditions_760 : body_verdict (record { predicates = ([]); specs = ((record { is_void = true; name = name_f; params = (name_p ∷ []); vars = ((name_s, sort.Int) ∷ (name_t, sort.Int) ∷ (name_v, sort.Val) ∷ (name_w, sort.Val) ∷ (name_k, sort.List) ∷ (name_m, sort.List) ∷ []); pre = (record { opened = []; facts = ([]); locals = []; items = ((Data (Var 0 sort.Int) (Var 2 sort.Val) (Var 4 sort.List)) ∷ []) }); post = (record { opened = []; facts = ([]); locals = []; items = ((Data (Var 0 sort.Int) (Var 2 sort.Val) (Var 4 sort.List)) ∷ []) }) }) ∷ []) }) (record { is_void = true; name = name_f; params = (name_p ∷ []); vars = ((name_s, sort.Int) ∷ (name_t, sort.Int) ∷ (name_v, sort.Val) ∷ (name_w, sort.Val) ∷ (name_k, sort.List) ∷ (name_m, sort.List) ∷ []); pre = (record { opened = []; facts = ([]); locals = []; items = ((Data (Var 0 sort.Int) (Var 2 sort.Val) (Var 4 sort.List)) ∷ []) }); post = (record { opened = []; facts = ([]); locals = []; items = ((Data (Var 0 sort.Int) (Var 2 sort.Val) (Var 4 sort.List)) ∷ []) }) }) (record { temps = (name_p ∷ []); body = (c.Then (c.Return None) c.End) }) (s.Then 1 (s.Pose (record { opened = (sort.Int ∷ []); facts = ([]); locals = []; items = ((Data (Var 0 sort.Int) (Named name_v) (Named name_k)) ∷ []) }) (name_j ∷ []) ([])) (s.WithBlock (s.Then 2 (s.Meet ((Named name_v) ∷ []) ([])) s.NoBlock s.End) s.NoBlock) (s.Then 3 (s.Return ([]) ([]) ([])) s.NoBlock s.End)) ≡ (RefusedAt 2 37 1)
unfolding computing
conditions_760 = refl

conditions_761 : body_verdict (record { predicates = ([]); specs = ((record { is_void = true; name = name_f; params = (name_p ∷ []); vars = ((name_s, sort.Int) ∷ (name_t, sort.Int) ∷ (name_v, sort.Val) ∷ (name_w, sort.Val) ∷ (name_k, sort.List) ∷ (name_m, sort.List) ∷ []); pre = (record { opened = []; facts = ([]); locals = []; items = ((Data (Var 0 sort.Int) (Var 2 sort.Val) (Var 4 sort.List)) ∷ []) }); post = (record { opened = []; facts = ([]); locals = []; items = ((Data (Var 0 sort.Int) (Var 2 sort.Val) (Var 4 sort.List)) ∷ []) }) }) ∷ []) }) (record { is_void = true; name = name_f; params = (name_p ∷ []); vars = ((name_s, sort.Int) ∷ (name_t, sort.Int) ∷ (name_v, sort.Val) ∷ (name_w, sort.Val) ∷ (name_k, sort.List) ∷ (name_m, sort.List) ∷ []); pre = (record { opened = []; facts = ([]); locals = []; items = ((Data (Var 0 sort.Int) (Var 2 sort.Val) (Var 4 sort.List)) ∷ []) }); post = (record { opened = []; facts = ([]); locals = []; items = ((Data (Var 0 sort.Int) (Var 2 sort.Val) (Var 4 sort.List)) ∷ []) }) }) (record { temps = (name_p ∷ []); body = (c.Then (c.Return None) c.End) }) (s.Then 1 (s.Pose (record { opened = (sort.Int ∷ []); facts = ([]); locals = []; items = ((Data (Var 0 sort.Int) (Named name_v) (Named name_k)) ∷ []) }) (name_s ∷ []) ([])) (s.WithBlock (s.Then 2 (s.Meet ((Named name_s) ∷ []) ([])) s.NoBlock s.End) s.NoBlock) (s.Then 3 (s.Return ([]) ([]) ([])) s.NoBlock s.End)) ≡ (RefusedAt 1 12 6)
unfolding computing
conditions_761 = refl

conditions_762 : body_verdict (record { predicates = ([]); specs = ((record { is_void = true; name = name_f; params = (name_p ∷ []); vars = ((name_s, sort.Int) ∷ (name_t, sort.Int) ∷ (name_v, sort.Val) ∷ (name_w, sort.Val) ∷ (name_k, sort.List) ∷ (name_m, sort.List) ∷ []); pre = (record { opened = []; facts = ([]); locals = []; items = ((Data (Var 0 sort.Int) (Var 2 sort.Val) (Var 4 sort.List)) ∷ []) }); post = (record { opened = []; facts = ([]); locals = []; items = ((Data (Var 0 sort.Int) (Var 2 sort.Val) (Var 4 sort.List)) ∷ []) }) }) ∷ []) }) (record { is_void = true; name = name_f; params = (name_p ∷ []); vars = ((name_s, sort.Int) ∷ (name_t, sort.Int) ∷ (name_v, sort.Val) ∷ (name_w, sort.Val) ∷ (name_k, sort.List) ∷ (name_m, sort.List) ∷ []); pre = (record { opened = []; facts = ([]); locals = []; items = ((Data (Var 0 sort.Int) (Var 2 sort.Val) (Var 4 sort.List)) ∷ []) }); post = (record { opened = []; facts = ([]); locals = []; items = ((Data (Var 0 sort.Int) (Var 2 sort.Val) (Var 4 sort.List)) ∷ []) }) }) (record { temps = (name_p ∷ []); body = (c.Then (c.Return None) c.End) }) (s.Then 1 (s.Pose (record { opened = (sort.Int ∷ []); facts = ((Rel relation.Eq (Var 0 sort.Int) (Named name_s)) ∷ []); locals = []; items = ((Data (Var 0 sort.Int) (Named name_v) (Named name_k)) ∷ []) }) (name_j ∷ []) ([])) (s.WithBlock (s.Then 2 (s.Meet ([]) ([])) s.NoBlock s.End) s.NoBlock) (s.Then 3 (s.Return ([]) ([]) ([])) s.NoBlock s.End)) ≡ (RefusedAt 2 37 1)
unfolding computing
conditions_762 = refl

conditions_763 : body_verdict (record { predicates = ([]); specs = ((record { is_void = true; name = name_f; params = (name_p ∷ []); vars = ((name_s, sort.Int) ∷ (name_t, sort.Int) ∷ (name_v, sort.Val) ∷ (name_w, sort.Val) ∷ (name_k, sort.List) ∷ (name_m, sort.List) ∷ []); pre = (record { opened = []; facts = ([]); locals = []; items = ((Data (Var 0 sort.Int) (Var 2 sort.Val) (Var 4 sort.List)) ∷ []) }); post = (record { opened = []; facts = ([]); locals = []; items = ((Data (Var 0 sort.Int) (Var 2 sort.Val) (Var 4 sort.List)) ∷ []) }) }) ∷ []) }) (record { is_void = true; name = name_f; params = (name_p ∷ []); vars = ((name_s, sort.Int) ∷ (name_t, sort.Int) ∷ (name_v, sort.Val) ∷ (name_w, sort.Val) ∷ (name_k, sort.List) ∷ (name_m, sort.List) ∷ []); pre = (record { opened = []; facts = ([]); locals = []; items = ((Data (Var 0 sort.Int) (Var 2 sort.Val) (Var 4 sort.List)) ∷ []) }); post = (record { opened = []; facts = ([]); locals = []; items = ((Data (Var 0 sort.Int) (Var 2 sort.Val) (Var 4 sort.List)) ∷ []) }) }) (record { temps = (name_p ∷ []); body = (c.Then (c.Return None) c.End) }) (s.Then 1 (s.Pose (record { opened = (sort.Int ∷ []); facts = ((Rel relation.Eq (Var 0 sort.Int) (Named name_s)) ∷ []); locals = []; items = ((Data (Var 0 sort.Int) (Named name_v) (Named name_k)) ∷ []) }) (name_j ∷ []) ([])) (s.WithBlock (s.Then 2 (s.Meet ((Named name_s) ∷ (Named name_s) ∷ []) ([])) s.NoBlock s.End) s.NoBlock) (s.Then 3 (s.Return ([]) ([]) ([])) s.NoBlock s.End)) ≡ (RefusedAt 2 37 1)
unfolding computing
conditions_763 = refl

conditions_764 : body_verdict (record { predicates = ([]); specs = ((record { is_void = true; name = name_f; params = (name_p ∷ []); vars = ((name_s, sort.Int) ∷ (name_t, sort.Int) ∷ (name_v, sort.Val) ∷ (name_w, sort.Val) ∷ (name_k, sort.List) ∷ (name_m, sort.List) ∷ []); pre = (record { opened = []; facts = ([]); locals = []; items = ((Data (Var 0 sort.Int) (Var 2 sort.Val) (Var 4 sort.List)) ∷ []) }); post = (record { opened = []; facts = ([]); locals = []; items = ((Data (Var 0 sort.Int) (Var 2 sort.Val) (Var 4 sort.List)) ∷ []) }) }) ∷ []) }) (record { is_void = true; name = name_f; params = (name_p ∷ []); vars = ((name_s, sort.Int) ∷ (name_t, sort.Int) ∷ (name_v, sort.Val) ∷ (name_w, sort.Val) ∷ (name_k, sort.List) ∷ (name_m, sort.List) ∷ []); pre = (record { opened = []; facts = ([]); locals = []; items = ((Data (Var 0 sort.Int) (Var 2 sort.Val) (Var 4 sort.List)) ∷ []) }); post = (record { opened = []; facts = ([]); locals = []; items = ((Data (Var 0 sort.Int) (Var 2 sort.Val) (Var 4 sort.List)) ∷ []) }) }) (record { temps = (name_p ∷ []); body = (c.Then (c.Return None) c.End) }) (s.Then 1 (s.Rewrite false 0 (occurrence.Prop 1)) s.NoBlock (s.Then 2 (s.Return ([]) ([]) ([])) s.NoBlock s.End)) ≡ (RefusedAt 1 28 1)
unfolding computing
conditions_764 = refl

conditions_765 : body_verdict (record { predicates = ([]); specs = ((record { is_void = true; name = name_f; params = (name_p ∷ []); vars = ((name_s, sort.Int) ∷ (name_t, sort.Int) ∷ (name_v, sort.Val) ∷ (name_w, sort.Val) ∷ (name_k, sort.List) ∷ (name_m, sort.List) ∷ []); pre = (record { opened = []; facts = ([]); locals = []; items = ((Data (Var 0 sort.Int) (Var 2 sort.Val) (Var 4 sort.List)) ∷ []) }); post = (record { opened = []; facts = ([]); locals = []; items = ((Data (Var 0 sort.Int) (Var 2 sort.Val) (Var 4 sort.List)) ∷ []) }) }) ∷ []) }) (record { is_void = true; name = name_f; params = (name_p ∷ []); vars = ((name_s, sort.Int) ∷ (name_t, sort.Int) ∷ (name_v, sort.Val) ∷ (name_w, sort.Val) ∷ (name_k, sort.List) ∷ (name_m, sort.List) ∷ []); pre = (record { opened = []; facts = ([]); locals = []; items = ((Data (Var 0 sort.Int) (Var 2 sort.Val) (Var 4 sort.List)) ∷ []) }); post = (record { opened = []; facts = ([]); locals = []; items = ((Data (Var 0 sort.Int) (Var 2 sort.Val) (Var 4 sort.List)) ∷ []) }) }) (record { temps = (name_p ∷ []); body = (c.Then (c.Return None) c.End) }) (s.Then 1 (s.Naming name_x (Named name_s)) s.NoBlock (s.Then 2 (s.Rewrite false 0 (occurrence.Item 0)) s.NoBlock (s.Then 3 (s.Return ([]) ([]) ([])) s.NoBlock s.End))) ≡ Accepted
unfolding computing
conditions_765 = refl

conditions_766 : body_verdict (record { predicates = ([]); specs = ((record { is_void = true; name = name_f; params = (name_p ∷ []); vars = ((name_s, sort.Int) ∷ (name_t, sort.Int) ∷ (name_v, sort.Val) ∷ (name_w, sort.Val) ∷ (name_k, sort.List) ∷ (name_m, sort.List) ∷ []); pre = (record { opened = []; facts = ([]); locals = []; items = ((Data (Var 0 sort.Int) (Var 2 sort.Val) (Var 4 sort.List)) ∷ []) }); post = (record { opened = []; facts = ([]); locals = []; items = ((Data (Var 0 sort.Int) (Var 2 sort.Val) (Var 4 sort.List)) ∷ []) }) }) ∷ []) }) (record { is_void = true; name = name_f; params = (name_p ∷ []); vars = ((name_s, sort.Int) ∷ (name_t, sort.Int) ∷ (name_v, sort.Val) ∷ (name_w, sort.Val) ∷ (name_k, sort.List) ∷ (name_m, sort.List) ∷ []); pre = (record { opened = []; facts = ([]); locals = []; items = ((Data (Var 0 sort.Int) (Var 2 sort.Val) (Var 4 sort.List)) ∷ []) }); post = (record { opened = []; facts = ([]); locals = []; items = ((Data (Var 0 sort.Int) (Var 2 sort.Val) (Var 4 sort.List)) ∷ []) }) }) (record { temps = (name_p ∷ []); body = (c.Then (c.Return None) c.End) }) (s.Then 1 (s.Naming name_x (Named name_s)) s.NoBlock (s.Then 2 (s.Rewrite true 0 (occurrence.Item 0)) s.NoBlock (s.Then 3 (s.Subst name_x) s.NoBlock (s.Then 4 (s.Return ([]) ([]) ([])) s.NoBlock s.End)))) ≡ Accepted
unfolding computing
conditions_766 = refl

conditions_767 : body_verdict (record { predicates = ([]); specs = ((record { is_void = true; name = name_f; params = (name_p ∷ []); vars = ((name_s, sort.Int) ∷ (name_t, sort.Int) ∷ (name_v, sort.Val) ∷ (name_w, sort.Val) ∷ (name_k, sort.List) ∷ (name_m, sort.List) ∷ []); pre = (record { opened = []; facts = ([]); locals = []; items = ((Data (Var 0 sort.Int) (Var 2 sort.Val) (Var 4 sort.List)) ∷ []) }); post = (record { opened = []; facts = ([]); locals = []; items = ((Data (Var 0 sort.Int) (Var 2 sort.Val) (Var 4 sort.List)) ∷ []) }) }) ∷ []) }) (record { is_void = true; name = name_f; params = (name_p ∷ []); vars = ((name_s, sort.Int) ∷ (name_t, sort.Int) ∷ (name_v, sort.Val) ∷ (name_w, sort.Val) ∷ (name_k, sort.List) ∷ (name_m, sort.List) ∷ []); pre = (record { opened = []; facts = ([]); locals = []; items = ((Data (Var 0 sort.Int) (Var 2 sort.Val) (Var 4 sort.List)) ∷ []) }); post = (record { opened = []; facts = ([]); locals = []; items = ((Data (Var 0 sort.Int) (Var 2 sort.Val) (Var 4 sort.List)) ∷ []) }) }) (record { temps = (name_p ∷ []); body = (c.Then (c.Return None) c.End) }) (s.Then 1 (s.Naming name_x (Named name_s)) s.NoBlock (s.Then 2 (s.Subst name_x) s.NoBlock (s.Then 3 (s.Have (Rel relation.Eq (Named name_x) (Named name_s)) ([])) s.NoBlock (s.Then 4 (s.Return ([]) ([]) ([])) s.NoBlock s.End)))) ≡ (RefusedAt 3 25 3)
unfolding computing
conditions_767 = refl

conditions_768 : body_verdict (record { predicates = ([]); specs = ((record { is_void = true; name = name_f; params = (name_p ∷ []); vars = ((name_s, sort.Int) ∷ (name_t, sort.Int) ∷ (name_v, sort.Val) ∷ (name_w, sort.Val) ∷ (name_k, sort.List) ∷ (name_m, sort.List) ∷ []); pre = (record { opened = []; facts = ([]); locals = []; items = ((Data (Var 0 sort.Int) (Var 2 sort.Val) (Var 4 sort.List)) ∷ []) }); post = (record { opened = []; facts = ([]); locals = []; items = ((Data (Var 0 sort.Int) (Var 2 sort.Val) (Var 4 sort.List)) ∷ []) }) }) ∷ []) }) (record { is_void = true; name = name_f; params = (name_p ∷ []); vars = ((name_s, sort.Int) ∷ (name_t, sort.Int) ∷ (name_v, sort.Val) ∷ (name_w, sort.Val) ∷ (name_k, sort.List) ∷ (name_m, sort.List) ∷ []); pre = (record { opened = []; facts = ([]); locals = []; items = ((Data (Var 0 sort.Int) (Var 2 sort.Val) (Var 4 sort.List)) ∷ []) }); post = (record { opened = []; facts = ([]); locals = []; items = ((Data (Var 0 sort.Int) (Var 2 sort.Val) (Var 4 sort.List)) ∷ []) }) }) (record { temps = (name_p ∷ []); body = (c.Then (c.Return None) c.End) }) (s.Then 1 (s.Naming name_x (Named name_s)) s.NoBlock (s.Then 2 (s.Forget (forgotten.Prop 0)) s.NoBlock (s.Then 3 (s.Subst name_x) s.NoBlock (s.Then 4 (s.Return ([]) ([]) ([])) s.NoBlock s.End)))) ≡ (RefusedAt 3 27 1)
unfolding computing
conditions_768 = refl

conditions_769 : body_verdict (record { predicates = ([]); specs = ((record { is_void = true; name = name_f; params = (name_p ∷ []); vars = ((name_s, sort.Int) ∷ (name_t, sort.Int) ∷ (name_v, sort.Val) ∷ (name_w, sort.Val) ∷ (name_k, sort.List) ∷ (name_m, sort.List) ∷ []); pre = (record { opened = []; facts = ([]); locals = []; items = ((Data (Var 0 sort.Int) (Var 2 sort.Val) (Var 4 sort.List)) ∷ []) }); post = (record { opened = []; facts = ([]); locals = []; items = ((Data (Var 0 sort.Int) (Var 2 sort.Val) (Var 4 sort.List)) ∷ []) }) }) ∷ []) }) (record { is_void = true; name = name_f; params = (name_p ∷ []); vars = ((name_s, sort.Int) ∷ (name_t, sort.Int) ∷ (name_v, sort.Val) ∷ (name_w, sort.Val) ∷ (name_k, sort.List) ∷ (name_m, sort.List) ∷ []); pre = (record { opened = []; facts = ([]); locals = []; items = ((Data (Var 0 sort.Int) (Var 2 sort.Val) (Var 4 sort.List)) ∷ []) }); post = (record { opened = []; facts = ([]); locals = []; items = ((Data (Var 0 sort.Int) (Var 2 sort.Val) (Var 4 sort.List)) ∷ []) }) }) (record { temps = (name_p ∷ []); body = (c.Then (c.Return None) c.End) }) (s.Then 1 (s.Naming name_x (Named name_s)) s.NoBlock (s.Then 2 (s.Have (Rel relation.Eq (Named name_s) (Named name_x)) ([])) s.NoBlock (s.Then 3 (s.Subst name_x) s.NoBlock (s.Then 4 (s.Have (Rel relation.Eq (Named name_s) (Named name_s)) ([])) s.NoBlock (s.Then 5 (s.Return ([]) ([]) ([])) s.NoBlock s.End))))) ≡ Accepted
unfolding computing
conditions_769 = refl

conditions_770 : body_verdict (record { predicates = ([]); specs = ((record { is_void = true; name = name_f; params = (name_p ∷ []); vars = ((name_s, sort.Int) ∷ (name_t, sort.Int) ∷ (name_v, sort.Val) ∷ (name_w, sort.Val) ∷ (name_k, sort.List) ∷ (name_m, sort.List) ∷ []); pre = (record { opened = []; facts = ([]); locals = []; items = ((Data (Var 0 sort.Int) (Var 2 sort.Val) (Var 4 sort.List)) ∷ []) }); post = (record { opened = []; facts = ([]); locals = []; items = ((Data (Var 0 sort.Int) (Var 2 sort.Val) (Var 4 sort.List)) ∷ []) }) }) ∷ []) }) (record { is_void = true; name = name_f; params = (name_p ∷ []); vars = ((name_s, sort.Int) ∷ (name_t, sort.Int) ∷ (name_v, sort.Val) ∷ (name_w, sort.Val) ∷ (name_k, sort.List) ∷ (name_m, sort.List) ∷ []); pre = (record { opened = []; facts = ([]); locals = []; items = ((Data (Var 0 sort.Int) (Var 2 sort.Val) (Var 4 sort.List)) ∷ []) }); post = (record { opened = []; facts = ([]); locals = []; items = ((Data (Var 0 sort.Int) (Var 2 sort.Val) (Var 4 sort.List)) ∷ []) }) }) (record { temps = (name_p ∷ []); body = (c.Then (c.Return None) c.End) }) (s.Then 1 (s.Naming name_x (Named name_k)) s.NoBlock (s.Then 2 (s.Rewrite true 0 (occurrence.Item 0)) s.NoBlock (s.Then 3 (s.Rewrite false 0 (occurrence.Item 0)) s.NoBlock (s.Then 4 (s.Return ([]) ([]) ([])) s.NoBlock s.End)))) ≡ Accepted
unfolding computing
conditions_770 = refl
