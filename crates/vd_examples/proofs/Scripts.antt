-- Scripts that no text has: too few blocks, or too many, and variables by their numbers.
use Rattle.std.specs.Prelude.{◌≡◌, refl, [], ◌∷◌, true, None}
use Rattle.vd_terms.specs.Terms.{Var, Named}
use Rattle.vd_terms.specs.declared.assertion.FactOf.TheVariants.{Rel}
use Rattle.vd_rules.specs.Computing.{computing}
use Rattle.vd_rules.specs.Verdicts.{Accepted, RefusedAt, body_verdict}
use Rattle.vd_logic.specs.declared.term.Sort.TheVariants as sort
use Rattle.vd_logic.specs.declared.assertion.Rel.TheVariants as relation
use Rattle.vd_steps.specs.Code as c
use Rattle.vd_steps.specs.Script as s
use Rattle.vd_examples.specs.Names.{name_a, name_b, name_f, name_p, name_v}

scripts_1 : body_verdict (record { predicates = ([]); specs = ((record { is_void = true; name = name_f; params = (name_p ∷ []); vars = ((name_a, sort.Int) ∷ (name_v, sort.Val) ∷ []); pre = (record { opened = []; facts = ([]); locals = ((name_p, (Var 1 sort.Val)) ∷ []); items = ([]) }); post = (record { opened = []; facts = ([]); locals = []; items = ([]) }) }) ∷ []) }) (record { is_void = true; name = name_f; params = (name_p ∷ []); vars = ((name_a, sort.Int) ∷ (name_v, sort.Val) ∷ []); pre = (record { opened = []; facts = ([]); locals = ((name_p, (Var 1 sort.Val)) ∷ []); items = ([]) }); post = (record { opened = []; facts = ([]); locals = []; items = ([]) }) }) (record { temps = (name_p ∷ []); body = (c.Then (c.Return None) c.End) }) (s.Then 1 (s.Have (Rel relation.Eq (Var 0 sort.Int) (Var 0 sort.Int)) ([])) s.NoBlock (s.Then 2 (s.Return ([]) ([]) ([])) s.NoBlock s.End)) ≡ (RefusedAt 1 25 1)
unfolding computing
scripts_1 = refl

scripts_2 : body_verdict (record { predicates = ([]); specs = ((record { is_void = true; name = name_f; params = (name_p ∷ []); vars = ((name_a, sort.Int) ∷ (name_v, sort.Val) ∷ []); pre = (record { opened = []; facts = ([]); locals = ((name_p, (Var 1 sort.Val)) ∷ []); items = ([]) }); post = (record { opened = []; facts = ([]); locals = []; items = ([]) }) }) ∷ []) }) (record { is_void = true; name = name_f; params = (name_p ∷ []); vars = ((name_a, sort.Int) ∷ (name_v, sort.Val) ∷ []); pre = (record { opened = []; facts = ([]); locals = ((name_p, (Var 1 sort.Val)) ∷ []); items = ([]) }); post = (record { opened = []; facts = ([]); locals = []; items = ([]) }) }) (record { temps = (name_p ∷ []); body = (c.Then (c.Return None) c.End) }) (s.Then 1 (s.Have (Rel relation.Eq (Named name_a) (Named name_a)) ([])) s.NoBlock (s.Then 2 (s.Return ([]) ([]) ([])) s.NoBlock s.End)) ≡ Accepted
unfolding computing
scripts_2 = refl

scripts_3 : body_verdict (record { predicates = ([]); specs = ((record { is_void = true; name = name_f; params = (name_p ∷ []); vars = ((name_a, sort.Int) ∷ (name_v, sort.Val) ∷ []); pre = (record { opened = []; facts = ([]); locals = ((name_p, (Var 1 sort.Val)) ∷ []); items = ([]) }); post = (record { opened = []; facts = ([]); locals = []; items = ([]) }) }) ∷ []) }) (record { is_void = true; name = name_f; params = (name_p ∷ []); vars = ((name_a, sort.Int) ∷ (name_v, sort.Val) ∷ []); pre = (record { opened = []; facts = ([]); locals = ((name_p, (Var 1 sort.Val)) ∷ []); items = ([]) }); post = (record { opened = []; facts = ([]); locals = []; items = ([]) }) }) (record { temps = (name_p ∷ []); body = (c.Then (c.Return None) c.End) }) (s.Then 1 (s.Split (Rel relation.Eq (Named name_a) (Named name_a)) ([]) ([])) s.NoBlock (s.Then 2 (s.Return ([]) ([]) ([])) s.NoBlock s.End)) ≡ (RefusedAt 1 23 1)
unfolding computing
scripts_3 = refl

scripts_4 : body_verdict (record { predicates = ([]); specs = ((record { is_void = true; name = name_f; params = (name_p ∷ []); vars = ((name_a, sort.Int) ∷ (name_v, sort.Val) ∷ []); pre = (record { opened = []; facts = ([]); locals = ((name_p, (Var 1 sort.Val)) ∷ []); items = ([]) }); post = (record { opened = []; facts = ([]); locals = []; items = ([]) }) }) ∷ []) }) (record { is_void = true; name = name_f; params = (name_p ∷ []); vars = ((name_a, sort.Int) ∷ (name_v, sort.Val) ∷ []); pre = (record { opened = []; facts = ([]); locals = ((name_p, (Var 1 sort.Val)) ∷ []); items = ([]) }); post = (record { opened = []; facts = ([]); locals = []; items = ([]) }) }) (record { temps = (name_p ∷ []); body = (c.Then (c.Return None) c.End) }) (s.Then 1 (s.Split (Rel relation.Eq (Named name_a) (Named name_a)) ([]) ([])) (s.WithBlock (s.Then 2 (s.Return ([]) ([]) ([])) s.NoBlock s.End) s.NoBlock) (s.Then 3 (s.Return ([]) ([]) ([])) s.NoBlock s.End)) ≡ Accepted
unfolding computing
scripts_4 = refl

scripts_5 : body_verdict (record { predicates = ([]); specs = ((record { is_void = true; name = name_f; params = (name_p ∷ []); vars = ((name_a, sort.Int) ∷ (name_v, sort.Val) ∷ []); pre = (record { opened = []; facts = ([]); locals = ((name_p, (Var 1 sort.Val)) ∷ []); items = ([]) }); post = (record { opened = []; facts = ([]); locals = []; items = ([]) }) }) ∷ []) }) (record { is_void = true; name = name_f; params = (name_p ∷ []); vars = ((name_a, sort.Int) ∷ (name_v, sort.Val) ∷ []); pre = (record { opened = []; facts = ([]); locals = ((name_p, (Var 1 sort.Val)) ∷ []); items = ([]) }); post = (record { opened = []; facts = ([]); locals = []; items = ([]) }) }) (record { temps = (name_p ∷ []); body = (c.Then c.Skip (c.Then (c.Return None) c.End)) }) (s.Then 1 s.Skip (s.WithBlock (s.Then 2 (s.Return ([]) ([]) ([])) s.NoBlock s.End) (s.WithBlock (s.Then 3 (s.Return ([]) ([]) ([])) s.NoBlock s.End) s.NoBlock)) s.End) ≡ (RefusedAt 1 1 1)
unfolding computing
scripts_5 = refl

scripts_6 : body_verdict (record { predicates = ([]); specs = ((record { is_void = true; name = name_f; params = (name_p ∷ []); vars = ((name_a, sort.Int) ∷ (name_v, sort.Val) ∷ []); pre = (record { opened = []; facts = ([]); locals = ((name_p, (Var 1 sort.Val)) ∷ []); items = ([]) }); post = (record { opened = (sort.Int ∷ []); facts = ((Rel relation.Eq (Var 3 sort.Int) (Var 0 sort.Int)) ∷ []); locals = []; items = ([]) }) }) ∷ []) }) (record { is_void = true; name = name_f; params = (name_p ∷ []); vars = ((name_a, sort.Int) ∷ (name_v, sort.Val) ∷ []); pre = (record { opened = []; facts = ([]); locals = ((name_p, (Var 1 sort.Val)) ∷ []); items = ([]) }); post = (record { opened = (sort.Int ∷ []); facts = ((Rel relation.Eq (Var 3 sort.Int) (Var 0 sort.Int)) ∷ []); locals = []; items = ([]) }) }) (record { temps = (name_p ∷ []); body = (c.Then (c.Return None) c.End) }) (s.Then 1 (s.Return ((Named name_a) ∷ []) ([]) ([])) s.NoBlock s.End) ≡ Accepted
unfolding computing
scripts_6 = refl

scripts_7 : body_verdict (record { predicates = ([]); specs = ((record { is_void = true; name = name_f; params = (name_p ∷ []); vars = ((name_a, sort.Int) ∷ (name_v, sort.Val) ∷ []); pre = (record { opened = []; facts = ([]); locals = ((name_p, (Var 1 sort.Val)) ∷ []); items = ([]) }); post = (record { opened = (sort.Int ∷ []); facts = ((Rel relation.Eq (Var 3 sort.Int) (Var 0 sort.Int)) ∷ []); locals = []; items = ([]) }) }) ∷ []) }) (record { is_void = true; name = name_f; params = (name_p ∷ []); vars = ((name_a, sort.Int) ∷ (name_v, sort.Val) ∷ []); pre = (record { opened = []; facts = ([]); locals = ((name_p, (Var 1 sort.Val)) ∷ []); items = ([]) }); post = (record { opened = (sort.Int ∷ []); facts = ((Rel relation.Eq (Var 3 sort.Int) (Var 0 sort.Int)) ∷ []); locals = []; items = ([]) }) }) (record { temps = (name_p ∷ []); body = (c.Then (c.Return None) c.End) }) (s.Then 1 (s.Return ((Var 0 sort.Int) ∷ []) ([]) ([])) s.NoBlock s.End) ≡ (RefusedAt 1 9 1)
unfolding computing
scripts_7 = refl

scripts_8 : body_verdict (record { predicates = ([]); specs = ((record { is_void = true; name = name_f; params = (name_p ∷ []); vars = ((name_a, sort.Int) ∷ (name_v, sort.Val) ∷ []); pre = (record { opened = []; facts = ([]); locals = ((name_p, (Var 1 sort.Val)) ∷ []); items = ([]) }); post = (record { opened = []; facts = ([]); locals = []; items = ([]) }) }) ∷ []) }) (record { is_void = true; name = name_f; params = (name_p ∷ []); vars = ((name_a, sort.Int) ∷ (name_v, sort.Val) ∷ []); pre = (record { opened = []; facts = ([]); locals = ((name_p, (Var 1 sort.Val)) ∷ []); items = ([]) }); post = (record { opened = []; facts = ([]); locals = []; items = ([]) }) }) (record { temps = (name_p ∷ []); body = (c.Then (c.Return None) c.End) }) (s.Then 1 (s.Pose (record { opened = []; facts = ((Rel relation.Eq (Var 0 sort.Int) (Named name_a)) ∷ []); locals = []; items = ([]) }) ([]) ([])) (s.WithBlock (s.Then 2 (s.Meet ([]) ([])) s.NoBlock s.End) s.NoBlock) (s.Then 3 (s.Return ([]) ([]) ([])) s.NoBlock s.End)) ≡ (RefusedAt 1 12 1)
unfolding computing
scripts_8 = refl

scripts_9 : body_verdict (record { predicates = ([]); specs = ((record { is_void = true; name = name_f; params = (name_p ∷ []); vars = ((name_a, sort.Int) ∷ (name_v, sort.Val) ∷ []); pre = (record { opened = []; facts = ([]); locals = ((name_p, (Var 1 sort.Val)) ∷ []); items = ([]) }); post = (record { opened = []; facts = ([]); locals = []; items = ([]) }) }) ∷ []) }) (record { is_void = true; name = name_f; params = (name_p ∷ []); vars = ((name_a, sort.Int) ∷ (name_v, sort.Val) ∷ []); pre = (record { opened = []; facts = ([]); locals = ((name_p, (Var 1 sort.Val)) ∷ []); items = ([]) }); post = (record { opened = []; facts = ([]); locals = []; items = ([]) }) }) (record { temps = (name_p ∷ []); body = (c.Then (c.Return None) c.End) }) (s.Then 1 (s.Pose (record { opened = (sort.Int ∷ []); facts = ((Rel relation.Eq (Var 0 sort.Int) (Named name_a)) ∷ []); locals = []; items = ([]) }) (name_b ∷ []) ([])) (s.WithBlock (s.Then 2 (s.Meet ((Named name_a) ∷ []) ([])) s.NoBlock s.End) s.NoBlock) (s.Then 3 (s.Have (Rel relation.Eq (Named name_b) (Named name_a)) ([])) s.NoBlock (s.Then 4 (s.Return ([]) ([]) ([])) s.NoBlock s.End))) ≡ Accepted
unfolding computing
scripts_9 = refl
