-- Calls of functions that have no specification.
use Rattle.std.specs.Prelude.{◌≡◌, refl, pos, [], ◌∷◌, true, Some, None}
use Rattle.vd_terms.specs.Terms.{Number, Var, Named, Nil, Of, Of2}
use Rattle.vd_terms.specs.declared.assertion.FactOf.TheVariants.{Rel}
use Rattle.vd_terms.specs.declared.assertion.ItemOf.TheVariants.{Data}
use Rattle.vd_rules.specs.Computing.{computing}
use Rattle.vd_rules.specs.Verdicts.{RefusedAt, body_verdict}
use Rattle.vd_terms.specs.declared.operation.Unary.TheVariants as unary
use Rattle.vd_terms.specs.declared.operation.Binary.TheVariants as binary
use Rattle.vd_logic.specs.declared.term.Sort.TheVariants as sort
use Rattle.vd_logic.specs.declared.assertion.Rel.TheVariants as relation
use Rattle.vd_steps.specs.Code as c
use Rattle.vd_steps.specs.Script as s
use Rattle.vd_examples.specs.Names.{name_f, name_g, name_m, name_p, name_t, name_v}

scopes_1 : body_verdict (record { predicates = ([]); specs = ((record { is_void = true; name = name_f; params = (name_p ∷ []); vars = ((name_v, sort.Val) ∷ []); pre = (record { opened = []; facts = ([]); locals = ((name_p, (Var 0 sort.Val)) ∷ []); items = ((Data (Number (pos 64)) (Var 0 sort.Val) (Of2 binary.Cons (Of unary.Vi (Number (pos 4))) Nil)) ∷ []) }); post = (record { opened = (sort.Int ∷ []); facts = ((Rel relation.Le (Number (pos 4)) (Var 2 sort.Int)) ∷ []); locals = []; items = ((Data (Number (pos 64)) (Var 0 sort.Val) (Of2 binary.Cons (Of unary.Vi (Var 2 sort.Int)) Nil)) ∷ []) }) }) ∷ []) }) (record { is_void = true; name = name_f; params = (name_p ∷ []); vars = ((name_v, sort.Val) ∷ []); pre = (record { opened = []; facts = ([]); locals = ((name_p, (Var 0 sort.Val)) ∷ []); items = ((Data (Number (pos 64)) (Var 0 sort.Val) (Of2 binary.Cons (Of unary.Vi (Number (pos 4))) Nil)) ∷ []) }); post = (record { opened = (sort.Int ∷ []); facts = ((Rel relation.Le (Number (pos 4)) (Var 2 sort.Int)) ∷ []); locals = []; items = ((Data (Number (pos 64)) (Var 0 sort.Val) (Of2 binary.Cons (Of unary.Vi (Var 2 sort.Int)) Nil)) ∷ []) }) }) (record { temps = (name_p ∷ []); body = (c.Then (c.Call None name_g ((c.Temp 0) ∷ [])) (c.Then (c.Return None) c.End)) }) (s.Then 1 (s.Call ((Named name_v) ∷ (Number (pos 4)) ∷ []) ([]) ([]) (name_m ∷ [])) s.NoBlock (s.Then 2 (s.Return ((Named name_m) ∷ []) ([]) ([])) s.NoBlock s.End)) ≡ (RefusedAt 1 13 7)
unfolding computing
scopes_1 = refl

scopes_2 : body_verdict (record { predicates = ([]); specs = ((record { is_void = true; name = name_f; params = (name_p ∷ []); vars = ((name_v, sort.Val) ∷ []); pre = (record { opened = []; facts = ([]); locals = ((name_p, (Var 0 sort.Val)) ∷ []); items = ((Data (Number (pos 64)) (Var 0 sort.Val) (Of2 binary.Cons (Of unary.Vi (Number (pos 4))) Nil)) ∷ []) }); post = (record { opened = (sort.Int ∷ []); facts = ((Rel relation.Le (Number (pos 4)) (Var 2 sort.Int)) ∷ []); locals = []; items = ((Data (Number (pos 64)) (Var 0 sort.Val) (Of2 binary.Cons (Of unary.Vi (Var 2 sort.Int)) Nil)) ∷ []) }) }) ∷ []) }) (record { is_void = true; name = name_f; params = (name_p ∷ []); vars = ((name_v, sort.Val) ∷ []); pre = (record { opened = []; facts = ([]); locals = ((name_p, (Var 0 sort.Val)) ∷ []); items = ((Data (Number (pos 64)) (Var 0 sort.Val) (Of2 binary.Cons (Of unary.Vi (Number (pos 4))) Nil)) ∷ []) }); post = (record { opened = (sort.Int ∷ []); facts = ((Rel relation.Le (Number (pos 4)) (Var 2 sort.Int)) ∷ []); locals = []; items = ((Data (Number (pos 64)) (Var 0 sort.Val) (Of2 binary.Cons (Of unary.Vi (Var 2 sort.Int)) Nil)) ∷ []) }) }) (record { temps = (name_p ∷ name_t ∷ []); body = (c.Then (c.Call (Some 1) name_g ((c.Temp 0) ∷ [])) (c.Then (c.Return None) c.End)) }) (s.Then 1 (s.Call ((Named name_v) ∷ (Number (pos 4)) ∷ []) ([]) ([]) (name_m ∷ [])) s.NoBlock (s.Then 2 (s.Return ((Named name_m) ∷ []) ([]) ([])) s.NoBlock s.End)) ≡ (RefusedAt 1 13 7)
unfolding computing
scopes_2 = refl

scopes_3 : body_verdict (record { predicates = ([]); specs = ((record { is_void = true; name = name_f; params = (name_p ∷ []); vars = ((name_v, sort.Val) ∷ []); pre = (record { opened = []; facts = ([]); locals = ((name_p, (Var 0 sort.Val)) ∷ []); items = ((Data (Number (pos 64)) (Var 0 sort.Val) (Of2 binary.Cons (Of unary.Vi (Number (pos 4))) Nil)) ∷ []) }); post = (record { opened = []; facts = ([]); locals = []; items = ([]) }) }) ∷ []) }) (record { is_void = true; name = name_f; params = (name_p ∷ []); vars = ((name_v, sort.Val) ∷ []); pre = (record { opened = []; facts = ([]); locals = ((name_p, (Var 0 sort.Val)) ∷ []); items = ((Data (Number (pos 64)) (Var 0 sort.Val) (Of2 binary.Cons (Of unary.Vi (Number (pos 4))) Nil)) ∷ []) }); post = (record { opened = []; facts = ([]); locals = []; items = ([]) }) }) (record { temps = (name_p ∷ []); body = (c.Then (c.Spawn name_g (c.Temp 0)) (c.Then (c.Return None) c.End)) }) (s.Then 1 (s.Spawn ((Named name_v) ∷ (Number (pos 4)) ∷ []) ([]) ([])) s.NoBlock (s.Then 2 (s.Return ([]) ([]) ([])) s.NoBlock s.End)) ≡ (RefusedAt 1 20 7)
unfolding computing
scopes_3 = refl

scopes_4 : body_verdict (record { predicates = ([]); specs = ((record { is_void = true; name = name_f; params = (name_p ∷ []); vars = ((name_v, sort.Val) ∷ []); pre = (record { opened = []; facts = ([]); locals = ((name_p, (Var 0 sort.Val)) ∷ []); items = ((Data (Number (pos 64)) (Var 0 sort.Val) (Of2 binary.Cons (Of unary.Vi (Number (pos 4))) Nil)) ∷ []) }); post = (record { opened = []; facts = ([]); locals = []; items = ([]) }) }) ∷ []) }) (record { is_void = true; name = name_f; params = (name_p ∷ []); vars = ((name_v, sort.Val) ∷ []); pre = (record { opened = []; facts = ([]); locals = ((name_p, (Var 0 sort.Val)) ∷ []); items = ((Data (Number (pos 64)) (Var 0 sort.Val) (Of2 binary.Cons (Of unary.Vi (Number (pos 4))) Nil)) ∷ []) }); post = (record { opened = []; facts = ([]); locals = []; items = ([]) }) }) (record { temps = (name_p ∷ []); body = (c.Then (c.Spawn name_g (c.Temp 0)) (c.Then (c.Return None) c.End)) }) (s.Then 1 (s.Spawn ((Named name_v) ∷ (Number (pos 5)) ∷ []) ([]) ([])) s.NoBlock (s.Then 2 (s.Return ([]) ([]) ([])) s.NoBlock s.End)) ≡ (RefusedAt 1 20 7)
unfolding computing
scopes_4 = refl
