-- Subsumptions at the edges of their conditions.
use Rattle.std.specs.Prelude.{◌≡◌, refl, pos, [], ◌∷◌, true, false}
use Rattle.vd_terms.specs.Terms.{Number, Var, Named, Undef, Of, Of2}
use Rattle.vd_terms.specs.declared.assertion.FactOf.TheVariants.{Rel}
use Rattle.vd_terms.specs.declared.assertion.ItemOf.TheVariants.{Pred}
use Rattle.vd_rules.specs.Computing.{computing}
use Rattle.vd_rules.specs.Verdicts.{Accepted, RefusedAt, sub_verdict}
use Rattle.vd_terms.specs.declared.operation.Unary.TheVariants as unary
use Rattle.vd_terms.specs.declared.operation.Binary.TheVariants as binary
use Rattle.vd_logic.specs.declared.term.Sort.TheVariants as sort
use Rattle.vd_logic.specs.declared.assertion.Rel.TheVariants as relation
use Rattle.vd_logic.specs.declared.step.CertLine.TheVariants as line
use Rattle.vd_logic.specs.declared.step.Forgotten.TheVariants as forgotten
use Rattle.vd_steps.specs.Script as s
use Rattle.vd_examples.specs.Names.{name_A, name_a, name_b, name_f, name_m, name_n, name_p, name_y, name_z}

subsumptions_1 : sub_verdict (record { predicates = ((record { name = name_A; args = (sort.Int ∷ []); cases = ((record { opened = []; facts = ((Rel relation.Le (Number (pos 0)) (Var 0 sort.Int)) ∷ []); locals = []; items = ([]) }) ∷ []) }) ∷ []); specs = ((record { is_void = false; name = name_f; params = (name_p ∷ []); vars = ((name_a, sort.Int) ∷ []); pre = (record { opened = []; facts = ((Rel relation.Le (Number (pos 0)) (Var 0 sort.Int)) ∷ (Rel relation.Le (Var 0 sort.Int) (Number (pos 9))) ∷ []); locals = ((name_p, (Of unary.Vi (Var 0 sort.Int))) ∷ []); items = ((Pred (record { name = name_A; args = ((Var 0 sort.Int) ∷ []) })) ∷ []) }); post = (record { opened = (sort.Int ∷ []); facts = ((Rel relation.Eq (Var 1 sort.Val) (Of unary.Vi (Var 2 sort.Int))) ∷ (Rel relation.Le (Var 0 sort.Int) (Var 2 sort.Int)) ∷ (Rel relation.Le (Var 2 sort.Int) (Of2 binary.Add (Var 0 sort.Int) (Number (pos 1)))) ∷ []); locals = []; items = ((Pred (record { name = name_A; args = ((Var 2 sort.Int) ∷ []) })) ∷ []) }) }) ∷ []) }) (record { is_void = false; name = name_f; params = (name_p ∷ []); vars = ((name_a, sort.Int) ∷ []); pre = (record { opened = []; facts = ((Rel relation.Le (Number (pos 0)) (Var 0 sort.Int)) ∷ (Rel relation.Le (Var 0 sort.Int) (Number (pos 9))) ∷ []); locals = ((name_p, (Of unary.Vi (Var 0 sort.Int))) ∷ []); items = ((Pred (record { name = name_A; args = ((Var 0 sort.Int) ∷ []) })) ∷ []) }); post = (record { opened = (sort.Int ∷ []); facts = ((Rel relation.Eq (Var 1 sort.Val) (Of unary.Vi (Var 2 sort.Int))) ∷ (Rel relation.Le (Var 0 sort.Int) (Var 2 sort.Int)) ∷ (Rel relation.Le (Var 2 sort.Int) (Of2 binary.Add (Var 0 sort.Int) (Number (pos 1)))) ∷ []); locals = []; items = ((Pred (record { name = name_A; args = ((Var 2 sort.Int) ∷ []) })) ∷ []) }) }) (record { is_void = false; name = name_f; params = (name_p ∷ []); vars = ((name_b, sort.Int) ∷ []); pre = (record { opened = []; facts = ((Rel relation.Le (Number (pos 0)) (Var 0 sort.Int)) ∷ (Rel relation.Le (Var 0 sort.Int) (Number (pos 5))) ∷ []); locals = ((name_p, (Of unary.Vi (Var 0 sort.Int))) ∷ []); items = ((Pred (record { name = name_A; args = ((Var 0 sort.Int) ∷ []) })) ∷ []) }); post = (record { opened = (sort.Int ∷ []); facts = ((Rel relation.Eq (Var 1 sort.Val) (Of unary.Vi (Var 2 sort.Int))) ∷ (Rel relation.Le (Var 0 sort.Int) (Var 2 sort.Int)) ∷ []); locals = []; items = ((Pred (record { name = name_A; args = ((Var 2 sort.Int) ∷ []) })) ∷ []) }) }) (s.Then 1 (s.Call ((Named name_b) ∷ []) ([]) ((record { lines = ((line.Comb (((pos 1), 1) ∷ ((pos 1), 2) ∷ [])) ∷ []) }) ∷ []) (name_z ∷ name_m ∷ [])) s.NoBlock (s.Then 2 (s.Return ((Named name_m) ∷ []) ([]) ([])) s.NoBlock s.End)) ≡ Accepted
unfolding computing
subsumptions_1 = refl

subsumptions_2 : sub_verdict (record { predicates = ((record { name = name_A; args = (sort.Int ∷ []); cases = ((record { opened = []; facts = ((Rel relation.Le (Number (pos 0)) (Var 0 sort.Int)) ∷ []); locals = []; items = ([]) }) ∷ []) }) ∷ []); specs = ((record { is_void = false; name = name_f; params = (name_p ∷ []); vars = ((name_a, sort.Int) ∷ []); pre = (record { opened = []; facts = ((Rel relation.Le (Number (pos 0)) (Var 0 sort.Int)) ∷ (Rel relation.Le (Var 0 sort.Int) (Number (pos 9))) ∷ []); locals = ((name_p, (Of unary.Vi (Var 0 sort.Int))) ∷ []); items = ((Pred (record { name = name_A; args = ((Var 0 sort.Int) ∷ []) })) ∷ []) }); post = (record { opened = (sort.Int ∷ []); facts = ((Rel relation.Eq (Var 1 sort.Val) (Of unary.Vi (Var 2 sort.Int))) ∷ (Rel relation.Le (Var 0 sort.Int) (Var 2 sort.Int)) ∷ (Rel relation.Le (Var 2 sort.Int) (Of2 binary.Add (Var 0 sort.Int) (Number (pos 1)))) ∷ []); locals = []; items = ((Pred (record { name = name_A; args = ((Var 2 sort.Int) ∷ []) })) ∷ []) }) }) ∷ []) }) (record { is_void = false; name = name_f; params = (name_p ∷ []); vars = ((name_a, sort.Int) ∷ []); pre = (record { opened = []; facts = ((Rel relation.Le (Number (pos 0)) (Var 0 sort.Int)) ∷ (Rel relation.Le (Var 0 sort.Int) (Number (pos 9))) ∷ []); locals = ((name_p, (Of unary.Vi (Var 0 sort.Int))) ∷ []); items = ((Pred (record { name = name_A; args = ((Var 0 sort.Int) ∷ []) })) ∷ []) }); post = (record { opened = (sort.Int ∷ []); facts = ((Rel relation.Eq (Var 1 sort.Val) (Of unary.Vi (Var 2 sort.Int))) ∷ (Rel relation.Le (Var 0 sort.Int) (Var 2 sort.Int)) ∷ (Rel relation.Le (Var 2 sort.Int) (Of2 binary.Add (Var 0 sort.Int) (Number (pos 1)))) ∷ []); locals = []; items = ((Pred (record { name = name_A; args = ((Var 2 sort.Int) ∷ []) })) ∷ []) }) }) (record { is_void = false; name = name_f; params = (name_p ∷ []); vars = ((name_b, sort.Int) ∷ []); pre = (record { opened = []; facts = ((Rel relation.Le (Number (pos 0)) (Var 0 sort.Int)) ∷ (Rel relation.Le (Var 0 sort.Int) (Number (pos 5))) ∷ []); locals = ((name_p, (Of unary.Vi (Var 0 sort.Int))) ∷ []); items = ((Pred (record { name = name_A; args = ((Var 0 sort.Int) ∷ []) })) ∷ []) }); post = (record { opened = (sort.Int ∷ []); facts = ((Rel relation.Eq (Var 1 sort.Val) (Of unary.Vi (Var 2 sort.Int))) ∷ (Rel relation.Le (Var 0 sort.Int) (Var 2 sort.Int)) ∷ []); locals = []; items = ((Pred (record { name = name_A; args = ((Var 2 sort.Int) ∷ []) })) ∷ []) }) }) (s.Then 1 (s.Call ((Named name_b) ∷ []) ([]) ([]) (name_z ∷ name_m ∷ [])) s.NoBlock (s.Then 2 (s.Return ((Named name_m) ∷ []) ([]) ([])) s.NoBlock s.End)) ≡ (RefusedAt 1 13 3)
unfolding computing
subsumptions_2 = refl

subsumptions_3 : sub_verdict (record { predicates = ((record { name = name_A; args = (sort.Int ∷ []); cases = ((record { opened = []; facts = ((Rel relation.Le (Number (pos 0)) (Var 0 sort.Int)) ∷ []); locals = []; items = ([]) }) ∷ []) }) ∷ []); specs = ((record { is_void = false; name = name_f; params = (name_p ∷ []); vars = ((name_a, sort.Int) ∷ []); pre = (record { opened = []; facts = ((Rel relation.Le (Number (pos 0)) (Var 0 sort.Int)) ∷ (Rel relation.Le (Var 0 sort.Int) (Number (pos 9))) ∷ []); locals = ((name_p, (Of unary.Vi (Var 0 sort.Int))) ∷ []); items = ((Pred (record { name = name_A; args = ((Var 0 sort.Int) ∷ []) })) ∷ []) }); post = (record { opened = (sort.Int ∷ []); facts = ((Rel relation.Eq (Var 1 sort.Val) (Of unary.Vi (Var 2 sort.Int))) ∷ (Rel relation.Le (Var 0 sort.Int) (Var 2 sort.Int)) ∷ (Rel relation.Le (Var 2 sort.Int) (Of2 binary.Add (Var 0 sort.Int) (Number (pos 1)))) ∷ []); locals = []; items = ((Pred (record { name = name_A; args = ((Var 2 sort.Int) ∷ []) })) ∷ []) }) }) ∷ []) }) (record { is_void = false; name = name_f; params = (name_p ∷ []); vars = ((name_a, sort.Int) ∷ []); pre = (record { opened = []; facts = ((Rel relation.Le (Number (pos 0)) (Var 0 sort.Int)) ∷ (Rel relation.Le (Var 0 sort.Int) (Number (pos 9))) ∷ []); locals = ((name_p, (Of unary.Vi (Var 0 sort.Int))) ∷ []); items = ((Pred (record { name = name_A; args = ((Var 0 sort.Int) ∷ []) })) ∷ []) }); post = (record { opened = (sort.Int ∷ []); facts = ((Rel relation.Eq (Var 1 sort.Val) (Of unary.Vi (Var 2 sort.Int))) ∷ (Rel relation.Le (Var 0 sort.Int) (Var 2 sort.Int)) ∷ (Rel relation.Le (Var 2 sort.Int) (Of2 binary.Add (Var 0 sort.Int) (Number (pos 1)))) ∷ []); locals = []; items = ((Pred (record { name = name_A; args = ((Var 2 sort.Int) ∷ []) })) ∷ []) }) }) (record { is_void = false; name = name_f; params = (name_p ∷ []); vars = ((name_b, sort.Int) ∷ []); pre = (record { opened = []; facts = ((Rel relation.Le (Number (pos 0)) (Var 0 sort.Int)) ∷ (Rel relation.Le (Var 0 sort.Int) (Number (pos 5))) ∷ []); locals = ((name_p, (Of unary.Vi (Var 0 sort.Int))) ∷ []); items = ((Pred (record { name = name_A; args = ((Var 0 sort.Int) ∷ []) })) ∷ []) }); post = (record { opened = (sort.Int ∷ []); facts = ((Rel relation.Eq (Var 1 sort.Val) (Of unary.Vi (Var 2 sort.Int))) ∷ (Rel relation.Le (Var 0 sort.Int) (Var 2 sort.Int)) ∷ []); locals = []; items = ((Pred (record { name = name_A; args = ((Var 2 sort.Int) ∷ []) })) ∷ []) }) }) (s.Then 1 (s.Call ((Named name_b) ∷ []) ([]) ((record { lines = ((line.Comb (((pos 1), 1) ∷ ((pos 1), 2) ∷ [])) ∷ []) }) ∷ []) (name_z ∷ [])) s.NoBlock (s.Then 2 (s.Return ((Named name_m) ∷ []) ([]) ([])) s.NoBlock s.End)) ≡ (RefusedAt 1 13 6)
unfolding computing
subsumptions_3 = refl

subsumptions_4 : sub_verdict (record { predicates = ((record { name = name_A; args = (sort.Int ∷ []); cases = ((record { opened = []; facts = ((Rel relation.Le (Number (pos 0)) (Var 0 sort.Int)) ∷ []); locals = []; items = ([]) }) ∷ []) }) ∷ []); specs = ((record { is_void = false; name = name_f; params = (name_p ∷ []); vars = ((name_a, sort.Int) ∷ []); pre = (record { opened = []; facts = ((Rel relation.Le (Number (pos 0)) (Var 0 sort.Int)) ∷ (Rel relation.Le (Var 0 sort.Int) (Number (pos 9))) ∷ []); locals = ((name_p, (Of unary.Vi (Var 0 sort.Int))) ∷ []); items = ((Pred (record { name = name_A; args = ((Var 0 sort.Int) ∷ []) })) ∷ []) }); post = (record { opened = (sort.Int ∷ []); facts = ((Rel relation.Eq (Var 1 sort.Val) (Of unary.Vi (Var 2 sort.Int))) ∷ (Rel relation.Le (Var 0 sort.Int) (Var 2 sort.Int)) ∷ (Rel relation.Le (Var 2 sort.Int) (Of2 binary.Add (Var 0 sort.Int) (Number (pos 1)))) ∷ []); locals = []; items = ((Pred (record { name = name_A; args = ((Var 2 sort.Int) ∷ []) })) ∷ []) }) }) ∷ []) }) (record { is_void = false; name = name_f; params = (name_p ∷ []); vars = ((name_a, sort.Int) ∷ []); pre = (record { opened = []; facts = ((Rel relation.Le (Number (pos 0)) (Var 0 sort.Int)) ∷ (Rel relation.Le (Var 0 sort.Int) (Number (pos 9))) ∷ []); locals = ((name_p, (Of unary.Vi (Var 0 sort.Int))) ∷ []); items = ((Pred (record { name = name_A; args = ((Var 0 sort.Int) ∷ []) })) ∷ []) }); post = (record { opened = (sort.Int ∷ []); facts = ((Rel relation.Eq (Var 1 sort.Val) (Of unary.Vi (Var 2 sort.Int))) ∷ (Rel relation.Le (Var 0 sort.Int) (Var 2 sort.Int)) ∷ (Rel relation.Le (Var 2 sort.Int) (Of2 binary.Add (Var 0 sort.Int) (Number (pos 1)))) ∷ []); locals = []; items = ((Pred (record { name = name_A; args = ((Var 2 sort.Int) ∷ []) })) ∷ []) }) }) (record { is_void = false; name = name_f; params = (name_p ∷ []); vars = ((name_b, sort.Int) ∷ []); pre = (record { opened = []; facts = ((Rel relation.Le (Number (pos 0)) (Var 0 sort.Int)) ∷ (Rel relation.Le (Var 0 sort.Int) (Number (pos 5))) ∷ []); locals = ((name_p, (Of unary.Vi (Var 0 sort.Int))) ∷ []); items = ((Pred (record { name = name_A; args = ((Var 0 sort.Int) ∷ []) })) ∷ []) }); post = (record { opened = (sort.Int ∷ []); facts = ((Rel relation.Eq (Var 1 sort.Val) (Of unary.Vi (Var 2 sort.Int))) ∷ (Rel relation.Le (Var 0 sort.Int) (Var 2 sort.Int)) ∷ []); locals = []; items = ((Pred (record { name = name_A; args = ((Var 2 sort.Int) ∷ []) })) ∷ []) }) }) (s.Then 1 (s.Call ((Named name_b) ∷ []) ([]) ((record { lines = ((line.Comb (((pos 1), 1) ∷ ((pos 1), 2) ∷ [])) ∷ []) }) ∷ []) (name_z ∷ name_b ∷ [])) s.NoBlock (s.Then 2 (s.Return ((Named name_b) ∷ []) ([]) ([])) s.NoBlock s.End)) ≡ (RefusedAt 1 13 6)
unfolding computing
subsumptions_4 = refl

subsumptions_5 : sub_verdict (record { predicates = ((record { name = name_A; args = (sort.Int ∷ []); cases = ((record { opened = []; facts = ((Rel relation.Le (Number (pos 0)) (Var 0 sort.Int)) ∷ []); locals = []; items = ([]) }) ∷ []) }) ∷ []); specs = ((record { is_void = false; name = name_f; params = (name_p ∷ []); vars = ((name_a, sort.Int) ∷ []); pre = (record { opened = []; facts = ((Rel relation.Le (Number (pos 0)) (Var 0 sort.Int)) ∷ (Rel relation.Le (Var 0 sort.Int) (Number (pos 9))) ∷ []); locals = ((name_p, (Of unary.Vi (Var 0 sort.Int))) ∷ []); items = ((Pred (record { name = name_A; args = ((Var 0 sort.Int) ∷ []) })) ∷ []) }); post = (record { opened = (sort.Int ∷ []); facts = ((Rel relation.Eq (Var 1 sort.Val) (Of unary.Vi (Var 2 sort.Int))) ∷ (Rel relation.Le (Var 0 sort.Int) (Var 2 sort.Int)) ∷ (Rel relation.Le (Var 2 sort.Int) (Of2 binary.Add (Var 0 sort.Int) (Number (pos 1)))) ∷ []); locals = []; items = ((Pred (record { name = name_A; args = ((Var 2 sort.Int) ∷ []) })) ∷ []) }) }) ∷ []) }) (record { is_void = false; name = name_f; params = (name_p ∷ []); vars = ((name_a, sort.Int) ∷ []); pre = (record { opened = []; facts = ((Rel relation.Le (Number (pos 0)) (Var 0 sort.Int)) ∷ (Rel relation.Le (Var 0 sort.Int) (Number (pos 9))) ∷ []); locals = ((name_p, (Of unary.Vi (Var 0 sort.Int))) ∷ []); items = ((Pred (record { name = name_A; args = ((Var 0 sort.Int) ∷ []) })) ∷ []) }); post = (record { opened = (sort.Int ∷ []); facts = ((Rel relation.Eq (Var 1 sort.Val) (Of unary.Vi (Var 2 sort.Int))) ∷ (Rel relation.Le (Var 0 sort.Int) (Var 2 sort.Int)) ∷ (Rel relation.Le (Var 2 sort.Int) (Of2 binary.Add (Var 0 sort.Int) (Number (pos 1)))) ∷ []); locals = []; items = ((Pred (record { name = name_A; args = ((Var 2 sort.Int) ∷ []) })) ∷ []) }) }) (record { is_void = false; name = name_f; params = (name_p ∷ []); vars = ((name_b, sort.Int) ∷ []); pre = (record { opened = []; facts = ((Rel relation.Le (Number (pos 0)) (Var 0 sort.Int)) ∷ (Rel relation.Le (Var 0 sort.Int) (Number (pos 5))) ∷ []); locals = ((name_p, (Of unary.Vi (Var 0 sort.Int))) ∷ []); items = ((Pred (record { name = name_A; args = ((Var 0 sort.Int) ∷ []) })) ∷ []) }); post = (record { opened = (sort.Int ∷ []); facts = ((Rel relation.Eq (Var 1 sort.Val) (Of unary.Vi (Var 2 sort.Int))) ∷ (Rel relation.Le (Var 0 sort.Int) (Var 2 sort.Int)) ∷ []); locals = []; items = ((Pred (record { name = name_A; args = ((Var 2 sort.Int) ∷ []) })) ∷ []) }) }) (s.Then 1 (s.Call ((Of2 binary.Add (Named name_b) (Number (pos 1))) ∷ []) ([]) ((record { lines = ((line.Comb (((pos 1), 1) ∷ ((pos 1), 2) ∷ [])) ∷ []) }) ∷ []) (name_z ∷ name_m ∷ [])) s.NoBlock (s.Then 2 (s.Return ((Named name_m) ∷ []) ([]) ([])) s.NoBlock s.End)) ≡ (RefusedAt 1 13 3)
unfolding computing
subsumptions_5 = refl

subsumptions_6 : sub_verdict (record { predicates = ((record { name = name_A; args = (sort.Int ∷ []); cases = ((record { opened = []; facts = ((Rel relation.Le (Number (pos 0)) (Var 0 sort.Int)) ∷ []); locals = []; items = ([]) }) ∷ []) }) ∷ []); specs = ((record { is_void = false; name = name_f; params = (name_p ∷ []); vars = ((name_a, sort.Int) ∷ []); pre = (record { opened = []; facts = ((Rel relation.Le (Number (pos 0)) (Var 0 sort.Int)) ∷ (Rel relation.Le (Var 0 sort.Int) (Number (pos 9))) ∷ []); locals = ((name_p, (Of unary.Vi (Var 0 sort.Int))) ∷ []); items = ((Pred (record { name = name_A; args = ((Var 0 sort.Int) ∷ []) })) ∷ []) }); post = (record { opened = (sort.Int ∷ []); facts = ((Rel relation.Eq (Var 1 sort.Val) (Of unary.Vi (Var 2 sort.Int))) ∷ (Rel relation.Le (Var 0 sort.Int) (Var 2 sort.Int)) ∷ (Rel relation.Le (Var 2 sort.Int) (Of2 binary.Add (Var 0 sort.Int) (Number (pos 1)))) ∷ []); locals = []; items = ((Pred (record { name = name_A; args = ((Var 2 sort.Int) ∷ []) })) ∷ []) }) }) ∷ []) }) (record { is_void = false; name = name_f; params = (name_p ∷ []); vars = ((name_a, sort.Int) ∷ []); pre = (record { opened = []; facts = ((Rel relation.Le (Number (pos 0)) (Var 0 sort.Int)) ∷ (Rel relation.Le (Var 0 sort.Int) (Number (pos 9))) ∷ []); locals = ((name_p, (Of unary.Vi (Var 0 sort.Int))) ∷ []); items = ((Pred (record { name = name_A; args = ((Var 0 sort.Int) ∷ []) })) ∷ []) }); post = (record { opened = (sort.Int ∷ []); facts = ((Rel relation.Eq (Var 1 sort.Val) (Of unary.Vi (Var 2 sort.Int))) ∷ (Rel relation.Le (Var 0 sort.Int) (Var 2 sort.Int)) ∷ (Rel relation.Le (Var 2 sort.Int) (Of2 binary.Add (Var 0 sort.Int) (Number (pos 1)))) ∷ []); locals = []; items = ((Pred (record { name = name_A; args = ((Var 2 sort.Int) ∷ []) })) ∷ []) }) }) (record { is_void = false; name = name_f; params = (name_p ∷ []); vars = ((name_b, sort.Int) ∷ []); pre = (record { opened = []; facts = ((Rel relation.Le (Number (pos 0)) (Var 0 sort.Int)) ∷ (Rel relation.Le (Var 0 sort.Int) (Number (pos 5))) ∷ []); locals = ((name_p, (Of unary.Vi (Var 0 sort.Int))) ∷ []); items = ((Pred (record { name = name_A; args = ((Var 0 sort.Int) ∷ []) })) ∷ []) }); post = (record { opened = (sort.Int ∷ []); facts = ((Rel relation.Eq (Var 1 sort.Val) (Of unary.Vi (Var 2 sort.Int))) ∷ (Rel relation.Le (Var 0 sort.Int) (Var 2 sort.Int)) ∷ []); locals = []; items = ((Pred (record { name = name_A; args = ((Var 2 sort.Int) ∷ []) })) ∷ []) }) }) (s.Then 1 (s.Call ((Named name_b) ∷ (Named name_b) ∷ []) ([]) ((record { lines = ((line.Comb (((pos 1), 1) ∷ ((pos 1), 2) ∷ [])) ∷ []) }) ∷ []) (name_z ∷ name_m ∷ [])) s.NoBlock (s.Then 2 (s.Return ((Named name_m) ∷ []) ([]) ([])) s.NoBlock s.End)) ≡ (RefusedAt 1 13 1)
unfolding computing
subsumptions_6 = refl

subsumptions_7 : sub_verdict (record { predicates = ((record { name = name_A; args = (sort.Int ∷ []); cases = ((record { opened = []; facts = ((Rel relation.Le (Number (pos 0)) (Var 0 sort.Int)) ∷ []); locals = []; items = ([]) }) ∷ []) }) ∷ []); specs = ((record { is_void = false; name = name_f; params = (name_p ∷ []); vars = ((name_a, sort.Int) ∷ []); pre = (record { opened = []; facts = ((Rel relation.Le (Number (pos 0)) (Var 0 sort.Int)) ∷ (Rel relation.Le (Var 0 sort.Int) (Number (pos 9))) ∷ []); locals = ((name_p, (Of unary.Vi (Var 0 sort.Int))) ∷ []); items = ((Pred (record { name = name_A; args = ((Var 0 sort.Int) ∷ []) })) ∷ []) }); post = (record { opened = (sort.Int ∷ []); facts = ((Rel relation.Eq (Var 1 sort.Val) (Of unary.Vi (Var 2 sort.Int))) ∷ (Rel relation.Le (Var 0 sort.Int) (Var 2 sort.Int)) ∷ (Rel relation.Le (Var 2 sort.Int) (Of2 binary.Add (Var 0 sort.Int) (Number (pos 1)))) ∷ []); locals = []; items = ((Pred (record { name = name_A; args = ((Var 2 sort.Int) ∷ []) })) ∷ []) }) }) ∷ []) }) (record { is_void = false; name = name_f; params = (name_p ∷ []); vars = ((name_a, sort.Int) ∷ []); pre = (record { opened = []; facts = ((Rel relation.Le (Number (pos 0)) (Var 0 sort.Int)) ∷ (Rel relation.Le (Var 0 sort.Int) (Number (pos 9))) ∷ []); locals = ((name_p, (Of unary.Vi (Var 0 sort.Int))) ∷ []); items = ((Pred (record { name = name_A; args = ((Var 0 sort.Int) ∷ []) })) ∷ []) }); post = (record { opened = (sort.Int ∷ []); facts = ((Rel relation.Eq (Var 1 sort.Val) (Of unary.Vi (Var 2 sort.Int))) ∷ (Rel relation.Le (Var 0 sort.Int) (Var 2 sort.Int)) ∷ (Rel relation.Le (Var 2 sort.Int) (Of2 binary.Add (Var 0 sort.Int) (Number (pos 1)))) ∷ []); locals = []; items = ((Pred (record { name = name_A; args = ((Var 2 sort.Int) ∷ []) })) ∷ []) }) }) (record { is_void = false; name = name_f; params = (name_p ∷ []); vars = ((name_b, sort.Int) ∷ []); pre = (record { opened = []; facts = ((Rel relation.Le (Number (pos 0)) (Var 0 sort.Int)) ∷ (Rel relation.Le (Var 0 sort.Int) (Number (pos 5))) ∷ []); locals = ((name_p, (Of unary.Vi (Var 0 sort.Int))) ∷ []); items = ((Pred (record { name = name_A; args = ((Var 0 sort.Int) ∷ []) })) ∷ []) }); post = (record { opened = (sort.Int ∷ []); facts = ((Rel relation.Eq (Var 1 sort.Val) (Of unary.Vi (Var 2 sort.Int))) ∷ (Rel relation.Le (Var 0 sort.Int) (Var 2 sort.Int)) ∷ []); locals = []; items = ((Pred (record { name = name_A; args = ((Var 2 sort.Int) ∷ []) })) ∷ []) }) }) (s.Then 1 (s.Call ((Of unary.Vi (Named name_b)) ∷ []) ([]) ([]) (name_z ∷ name_m ∷ [])) s.NoBlock (s.Then 2 (s.Return ((Named name_m) ∷ []) ([]) ([])) s.NoBlock s.End)) ≡ (RefusedAt 1 13 1)
unfolding computing
subsumptions_7 = refl

subsumptions_8 : sub_verdict (record { predicates = ((record { name = name_A; args = (sort.Int ∷ []); cases = ((record { opened = []; facts = ((Rel relation.Le (Number (pos 0)) (Var 0 sort.Int)) ∷ []); locals = []; items = ([]) }) ∷ []) }) ∷ []); specs = ((record { is_void = false; name = name_f; params = (name_p ∷ []); vars = ((name_a, sort.Int) ∷ []); pre = (record { opened = []; facts = ((Rel relation.Le (Number (pos 0)) (Var 0 sort.Int)) ∷ (Rel relation.Le (Var 0 sort.Int) (Number (pos 9))) ∷ []); locals = ((name_p, (Of unary.Vi (Var 0 sort.Int))) ∷ []); items = ((Pred (record { name = name_A; args = ((Var 0 sort.Int) ∷ []) })) ∷ []) }); post = (record { opened = (sort.Int ∷ []); facts = ((Rel relation.Eq (Var 1 sort.Val) (Of unary.Vi (Var 2 sort.Int))) ∷ (Rel relation.Le (Var 0 sort.Int) (Var 2 sort.Int)) ∷ (Rel relation.Le (Var 2 sort.Int) (Of2 binary.Add (Var 0 sort.Int) (Number (pos 1)))) ∷ []); locals = []; items = ((Pred (record { name = name_A; args = ((Var 2 sort.Int) ∷ []) })) ∷ []) }) }) ∷ []) }) (record { is_void = false; name = name_f; params = (name_p ∷ []); vars = ((name_a, sort.Int) ∷ []); pre = (record { opened = []; facts = ((Rel relation.Le (Number (pos 0)) (Var 0 sort.Int)) ∷ (Rel relation.Le (Var 0 sort.Int) (Number (pos 9))) ∷ []); locals = ((name_p, (Of unary.Vi (Var 0 sort.Int))) ∷ []); items = ((Pred (record { name = name_A; args = ((Var 0 sort.Int) ∷ []) })) ∷ []) }); post = (record { opened = (sort.Int ∷ []); facts = ((Rel relation.Eq (Var 1 sort.Val) (Of unary.Vi (Var 2 sort.Int))) ∷ (Rel relation.Le (Var 0 sort.Int) (Var 2 sort.Int)) ∷ (Rel relation.Le (Var 2 sort.Int) (Of2 binary.Add (Var 0 sort.Int) (Number (pos 1)))) ∷ []); locals = []; items = ((Pred (record { name = name_A; args = ((Var 2 sort.Int) ∷ []) })) ∷ []) }) }) (record { is_void = false; name = name_f; params = (name_p ∷ []); vars = ((name_b, sort.Int) ∷ []); pre = (record { opened = []; facts = ((Rel relation.Le (Number (pos 0)) (Var 0 sort.Int)) ∷ (Rel relation.Le (Var 0 sort.Int) (Number (pos 5))) ∷ []); locals = ((name_p, (Of unary.Vi (Var 0 sort.Int))) ∷ []); items = ((Pred (record { name = name_A; args = ((Var 0 sort.Int) ∷ []) })) ∷ []) }); post = (record { opened = (sort.Int ∷ []); facts = ((Rel relation.Eq (Var 1 sort.Val) (Of unary.Vi (Var 2 sort.Int))) ∷ (Rel relation.Le (Var 0 sort.Int) (Var 2 sort.Int)) ∷ []); locals = []; items = ((Pred (record { name = name_A; args = ((Var 2 sort.Int) ∷ []) })) ∷ []) }) }) (s.Then 1 (s.Call ((Named name_b) ∷ []) ([]) ((record { lines = ((line.Comb (((pos 1), 1) ∷ ((pos 1), 2) ∷ [])) ∷ []) }) ∷ []) (name_z ∷ name_m ∷ [])) s.NoBlock (s.Then 2 (s.Return ((Named name_b) ∷ []) ([]) ([])) s.NoBlock s.End)) ≡ (RefusedAt 2 9 3)
unfolding computing
subsumptions_8 = refl

subsumptions_9 : sub_verdict (record { predicates = ((record { name = name_A; args = (sort.Int ∷ []); cases = ((record { opened = []; facts = ((Rel relation.Le (Number (pos 0)) (Var 0 sort.Int)) ∷ []); locals = []; items = ([]) }) ∷ []) }) ∷ []); specs = ((record { is_void = false; name = name_f; params = (name_p ∷ []); vars = ((name_a, sort.Int) ∷ []); pre = (record { opened = []; facts = ((Rel relation.Le (Number (pos 0)) (Var 0 sort.Int)) ∷ (Rel relation.Le (Var 0 sort.Int) (Number (pos 9))) ∷ []); locals = ((name_p, (Of unary.Vi (Var 0 sort.Int))) ∷ []); items = ((Pred (record { name = name_A; args = ((Var 0 sort.Int) ∷ []) })) ∷ []) }); post = (record { opened = (sort.Int ∷ []); facts = ((Rel relation.Eq (Var 1 sort.Val) (Of unary.Vi (Var 2 sort.Int))) ∷ (Rel relation.Le (Var 0 sort.Int) (Var 2 sort.Int)) ∷ (Rel relation.Le (Var 2 sort.Int) (Of2 binary.Add (Var 0 sort.Int) (Number (pos 1)))) ∷ []); locals = []; items = ((Pred (record { name = name_A; args = ((Var 2 sort.Int) ∷ []) })) ∷ []) }) }) ∷ []) }) (record { is_void = false; name = name_f; params = (name_p ∷ []); vars = ((name_a, sort.Int) ∷ []); pre = (record { opened = []; facts = ((Rel relation.Le (Number (pos 0)) (Var 0 sort.Int)) ∷ (Rel relation.Le (Var 0 sort.Int) (Number (pos 9))) ∷ []); locals = ((name_p, (Of unary.Vi (Var 0 sort.Int))) ∷ []); items = ((Pred (record { name = name_A; args = ((Var 0 sort.Int) ∷ []) })) ∷ []) }); post = (record { opened = (sort.Int ∷ []); facts = ((Rel relation.Eq (Var 1 sort.Val) (Of unary.Vi (Var 2 sort.Int))) ∷ (Rel relation.Le (Var 0 sort.Int) (Var 2 sort.Int)) ∷ (Rel relation.Le (Var 2 sort.Int) (Of2 binary.Add (Var 0 sort.Int) (Number (pos 1)))) ∷ []); locals = []; items = ((Pred (record { name = name_A; args = ((Var 2 sort.Int) ∷ []) })) ∷ []) }) }) (record { is_void = false; name = name_f; params = (name_p ∷ []); vars = ((name_b, sort.Int) ∷ []); pre = (record { opened = []; facts = ((Rel relation.Le (Number (pos 0)) (Var 0 sort.Int)) ∷ (Rel relation.Le (Var 0 sort.Int) (Number (pos 5))) ∷ []); locals = ((name_p, (Of unary.Vi (Var 0 sort.Int))) ∷ []); items = ((Pred (record { name = name_A; args = ((Var 0 sort.Int) ∷ []) })) ∷ []) }); post = (record { opened = (sort.Int ∷ []); facts = ((Rel relation.Eq (Var 1 sort.Val) (Of unary.Vi (Var 2 sort.Int))) ∷ (Rel relation.Le (Var 0 sort.Int) (Var 2 sort.Int)) ∷ []); locals = []; items = ((Pred (record { name = name_A; args = ((Var 2 sort.Int) ∷ []) })) ∷ []) }) }) (s.Then 1 (s.Call ((Named name_b) ∷ []) ([]) ((record { lines = ((line.Comb (((pos 1), 1) ∷ ((pos 1), 2) ∷ [])) ∷ []) }) ∷ []) (name_z ∷ name_m ∷ [])) s.NoBlock (s.Then 2 (s.Return ([]) ([]) ([])) s.NoBlock s.End)) ≡ (RefusedAt 2 9 1)
unfolding computing
subsumptions_9 = refl

subsumptions_10 : sub_verdict (record { predicates = ((record { name = name_A; args = (sort.Int ∷ []); cases = ((record { opened = []; facts = ((Rel relation.Le (Number (pos 0)) (Var 0 sort.Int)) ∷ []); locals = []; items = ([]) }) ∷ []) }) ∷ []); specs = ((record { is_void = false; name = name_f; params = (name_p ∷ []); vars = ((name_a, sort.Int) ∷ []); pre = (record { opened = []; facts = ((Rel relation.Le (Number (pos 0)) (Var 0 sort.Int)) ∷ (Rel relation.Le (Var 0 sort.Int) (Number (pos 9))) ∷ []); locals = ((name_p, (Of unary.Vi (Var 0 sort.Int))) ∷ []); items = ((Pred (record { name = name_A; args = ((Var 0 sort.Int) ∷ []) })) ∷ []) }); post = (record { opened = (sort.Int ∷ []); facts = ((Rel relation.Eq (Var 1 sort.Val) (Of unary.Vi (Var 2 sort.Int))) ∷ (Rel relation.Le (Var 0 sort.Int) (Var 2 sort.Int)) ∷ (Rel relation.Le (Var 2 sort.Int) (Of2 binary.Add (Var 0 sort.Int) (Number (pos 1)))) ∷ []); locals = []; items = ((Pred (record { name = name_A; args = ((Var 2 sort.Int) ∷ []) })) ∷ []) }) }) ∷ []) }) (record { is_void = false; name = name_f; params = (name_p ∷ []); vars = ((name_a, sort.Int) ∷ []); pre = (record { opened = []; facts = ((Rel relation.Le (Number (pos 0)) (Var 0 sort.Int)) ∷ (Rel relation.Le (Var 0 sort.Int) (Number (pos 9))) ∷ []); locals = ((name_p, (Of unary.Vi (Var 0 sort.Int))) ∷ []); items = ((Pred (record { name = name_A; args = ((Var 0 sort.Int) ∷ []) })) ∷ []) }); post = (record { opened = (sort.Int ∷ []); facts = ((Rel relation.Eq (Var 1 sort.Val) (Of unary.Vi (Var 2 sort.Int))) ∷ (Rel relation.Le (Var 0 sort.Int) (Var 2 sort.Int)) ∷ (Rel relation.Le (Var 2 sort.Int) (Of2 binary.Add (Var 0 sort.Int) (Number (pos 1)))) ∷ []); locals = []; items = ((Pred (record { name = name_A; args = ((Var 2 sort.Int) ∷ []) })) ∷ []) }) }) (record { is_void = false; name = name_f; params = (name_p ∷ []); vars = ((name_b, sort.Int) ∷ []); pre = (record { opened = []; facts = ((Rel relation.Le (Number (pos 0)) (Var 0 sort.Int)) ∷ (Rel relation.Le (Var 0 sort.Int) (Number (pos 5))) ∷ []); locals = ((name_p, (Of unary.Vi (Var 0 sort.Int))) ∷ []); items = ((Pred (record { name = name_A; args = ((Var 0 sort.Int) ∷ []) })) ∷ []) }); post = (record { opened = (sort.Int ∷ []); facts = ((Rel relation.Eq (Var 1 sort.Val) (Of unary.Vi (Var 2 sort.Int))) ∷ (Rel relation.Le (Var 0 sort.Int) (Var 2 sort.Int)) ∷ []); locals = []; items = ((Pred (record { name = name_A; args = ((Var 2 sort.Int) ∷ []) })) ∷ []) }) }) (s.Then 1 (s.Call ((Named name_b) ∷ []) ([]) ((record { lines = ((line.Comb (((pos 1), 1) ∷ ((pos 1), 2) ∷ [])) ∷ []) }) ∷ []) (name_z ∷ name_m ∷ [])) s.NoBlock (s.Then 2 (s.Subst name_z) s.NoBlock (s.Then 3 (s.Return ((Named name_m) ∷ []) ([]) ([])) s.NoBlock s.End))) ≡ Accepted
unfolding computing
subsumptions_10 = refl

subsumptions_11 : sub_verdict (record { predicates = ((record { name = name_A; args = (sort.Int ∷ []); cases = ((record { opened = []; facts = ((Rel relation.Le (Number (pos 0)) (Var 0 sort.Int)) ∷ []); locals = []; items = ([]) }) ∷ []) }) ∷ []); specs = ((record { is_void = false; name = name_f; params = (name_p ∷ []); vars = ((name_a, sort.Int) ∷ []); pre = (record { opened = []; facts = ((Rel relation.Le (Number (pos 0)) (Var 0 sort.Int)) ∷ (Rel relation.Le (Var 0 sort.Int) (Number (pos 9))) ∷ []); locals = ((name_p, (Of unary.Vi (Var 0 sort.Int))) ∷ []); items = ((Pred (record { name = name_A; args = ((Var 0 sort.Int) ∷ []) })) ∷ []) }); post = (record { opened = (sort.Int ∷ []); facts = ((Rel relation.Eq (Var 1 sort.Val) (Of unary.Vi (Var 2 sort.Int))) ∷ (Rel relation.Le (Var 0 sort.Int) (Var 2 sort.Int)) ∷ (Rel relation.Le (Var 2 sort.Int) (Of2 binary.Add (Var 0 sort.Int) (Number (pos 1)))) ∷ []); locals = []; items = ((Pred (record { name = name_A; args = ((Var 2 sort.Int) ∷ []) })) ∷ []) }) }) ∷ []) }) (record { is_void = false; name = name_f; params = (name_p ∷ []); vars = ((name_a, sort.Int) ∷ []); pre = (record { opened = []; facts = ((Rel relation.Le (Number (pos 0)) (Var 0 sort.Int)) ∷ (Rel relation.Le (Var 0 sort.Int) (Number (pos 9))) ∷ []); locals = ((name_p, (Of unary.Vi (Var 0 sort.Int))) ∷ []); items = ((Pred (record { name = name_A; args = ((Var 0 sort.Int) ∷ []) })) ∷ []) }); post = (record { opened = (sort.Int ∷ []); facts = ((Rel relation.Eq (Var 1 sort.Val) (Of unary.Vi (Var 2 sort.Int))) ∷ (Rel relation.Le (Var 0 sort.Int) (Var 2 sort.Int)) ∷ (Rel relation.Le (Var 2 sort.Int) (Of2 binary.Add (Var 0 sort.Int) (Number (pos 1)))) ∷ []); locals = []; items = ((Pred (record { name = name_A; args = ((Var 2 sort.Int) ∷ []) })) ∷ []) }) }) (record { is_void = false; name = name_f; params = (name_p ∷ []); vars = ((name_b, sort.Int) ∷ []); pre = (record { opened = []; facts = ((Rel relation.Le (Number (pos 0)) (Var 0 sort.Int)) ∷ (Rel relation.Le (Var 0 sort.Int) (Number (pos 5))) ∷ []); locals = ((name_p, (Of unary.Vi (Var 0 sort.Int))) ∷ []); items = ((Pred (record { name = name_A; args = ((Var 0 sort.Int) ∷ []) })) ∷ []) }); post = (record { opened = (sort.Int ∷ []); facts = ((Rel relation.Eq (Var 1 sort.Val) (Of unary.Vi (Var 2 sort.Int))) ∷ (Rel relation.Le (Var 0 sort.Int) (Var 2 sort.Int)) ∷ []); locals = []; items = ((Pred (record { name = name_A; args = ((Var 2 sort.Int) ∷ []) })) ∷ []) }) }) (s.Then 1 (s.Call ((Named name_b) ∷ []) ([]) ((record { lines = ((line.Comb (((pos 1), 1) ∷ ((pos 1), 2) ∷ [])) ∷ []) }) ∷ []) (name_z ∷ name_m ∷ [])) s.NoBlock (s.Then 2 (s.Naming name_y (Named name_m)) s.NoBlock (s.Then 3 (s.Return ((Named name_y) ∷ []) ([]) ((record { lines = ((line.Comb (((pos 1), 3) ∷ ((pos 1), 4) ∷ [])) ∷ []) }) ∷ [])) s.NoBlock s.End))) ≡ (RefusedAt 3 9 3)
unfolding computing
subsumptions_11 = refl

subsumptions_12 : sub_verdict (record { predicates = ((record { name = name_A; args = (sort.Int ∷ []); cases = ((record { opened = []; facts = ((Rel relation.Le (Number (pos 0)) (Var 0 sort.Int)) ∷ []); locals = []; items = ([]) }) ∷ []) }) ∷ []); specs = ((record { is_void = false; name = name_f; params = (name_p ∷ []); vars = ((name_a, sort.Int) ∷ []); pre = (record { opened = []; facts = ((Rel relation.Le (Number (pos 0)) (Var 0 sort.Int)) ∷ (Rel relation.Le (Var 0 sort.Int) (Number (pos 9))) ∷ []); locals = ((name_p, (Of unary.Vi (Var 0 sort.Int))) ∷ []); items = ((Pred (record { name = name_A; args = ((Var 0 sort.Int) ∷ []) })) ∷ []) }); post = (record { opened = (sort.Int ∷ []); facts = ((Rel relation.Eq (Var 1 sort.Val) (Of unary.Vi (Var 2 sort.Int))) ∷ (Rel relation.Le (Var 0 sort.Int) (Var 2 sort.Int)) ∷ (Rel relation.Le (Var 2 sort.Int) (Of2 binary.Add (Var 0 sort.Int) (Number (pos 1)))) ∷ []); locals = []; items = ((Pred (record { name = name_A; args = ((Var 2 sort.Int) ∷ []) })) ∷ []) }) }) ∷ []) }) (record { is_void = false; name = name_f; params = (name_p ∷ []); vars = ((name_a, sort.Int) ∷ []); pre = (record { opened = []; facts = ((Rel relation.Le (Number (pos 0)) (Var 0 sort.Int)) ∷ (Rel relation.Le (Var 0 sort.Int) (Number (pos 9))) ∷ []); locals = ((name_p, (Of unary.Vi (Var 0 sort.Int))) ∷ []); items = ((Pred (record { name = name_A; args = ((Var 0 sort.Int) ∷ []) })) ∷ []) }); post = (record { opened = (sort.Int ∷ []); facts = ((Rel relation.Eq (Var 1 sort.Val) (Of unary.Vi (Var 2 sort.Int))) ∷ (Rel relation.Le (Var 0 sort.Int) (Var 2 sort.Int)) ∷ (Rel relation.Le (Var 2 sort.Int) (Of2 binary.Add (Var 0 sort.Int) (Number (pos 1)))) ∷ []); locals = []; items = ((Pred (record { name = name_A; args = ((Var 2 sort.Int) ∷ []) })) ∷ []) }) }) (record { is_void = false; name = name_f; params = (name_p ∷ []); vars = ((name_b, sort.Int) ∷ []); pre = (record { opened = []; facts = ((Rel relation.Le (Number (pos 0)) (Var 0 sort.Int)) ∷ (Rel relation.Le (Var 0 sort.Int) (Number (pos 5))) ∷ []); locals = ((name_p, (Of unary.Vi (Var 0 sort.Int))) ∷ []); items = ((Pred (record { name = name_A; args = ((Var 0 sort.Int) ∷ []) })) ∷ []) }); post = (record { opened = (sort.Int ∷ []); facts = ((Rel relation.Eq (Var 1 sort.Val) (Of unary.Vi (Var 2 sort.Int))) ∷ (Rel relation.Le (Var 0 sort.Int) (Var 2 sort.Int)) ∷ []); locals = []; items = ((Pred (record { name = name_A; args = ((Var 2 sort.Int) ∷ []) })) ∷ []) }) }) (s.Then 1 (s.Unfold 0 (([]) ∷ [])) (s.WithBlock (s.Then 2 (s.Fold name_A 0 ((Named name_b) ∷ []) ([]) ([])) s.NoBlock (s.Then 3 (s.Call ((Named name_b) ∷ []) ([]) ((record { lines = ((line.Comb (((pos 1), 1) ∷ ((pos 1), 3) ∷ [])) ∷ []) }) ∷ []) (name_z ∷ name_m ∷ [])) s.NoBlock (s.Then 4 (s.Return ((Named name_m) ∷ []) ([]) ([])) s.NoBlock s.End))) s.NoBlock) s.End) ≡ Accepted
unfolding computing
subsumptions_12 = refl

subsumptions_13 : sub_verdict (record { predicates = ((record { name = name_A; args = (sort.Int ∷ []); cases = ((record { opened = []; facts = ((Rel relation.Le (Number (pos 0)) (Var 0 sort.Int)) ∷ []); locals = []; items = ([]) }) ∷ []) }) ∷ []); specs = ((record { is_void = false; name = name_f; params = (name_p ∷ []); vars = ((name_a, sort.Int) ∷ []); pre = (record { opened = []; facts = ((Rel relation.Le (Number (pos 0)) (Var 0 sort.Int)) ∷ (Rel relation.Le (Var 0 sort.Int) (Number (pos 9))) ∷ []); locals = ((name_p, (Of unary.Vi (Var 0 sort.Int))) ∷ []); items = ((Pred (record { name = name_A; args = ((Var 0 sort.Int) ∷ []) })) ∷ []) }); post = (record { opened = (sort.Int ∷ []); facts = ((Rel relation.Eq (Var 1 sort.Val) (Of unary.Vi (Var 2 sort.Int))) ∷ (Rel relation.Le (Var 0 sort.Int) (Var 2 sort.Int)) ∷ (Rel relation.Le (Var 2 sort.Int) (Of2 binary.Add (Var 0 sort.Int) (Number (pos 1)))) ∷ []); locals = []; items = ((Pred (record { name = name_A; args = ((Var 2 sort.Int) ∷ []) })) ∷ []) }) }) ∷ []) }) (record { is_void = false; name = name_f; params = (name_p ∷ []); vars = ((name_a, sort.Int) ∷ []); pre = (record { opened = []; facts = ((Rel relation.Le (Number (pos 0)) (Var 0 sort.Int)) ∷ (Rel relation.Le (Var 0 sort.Int) (Number (pos 9))) ∷ []); locals = ((name_p, (Of unary.Vi (Var 0 sort.Int))) ∷ []); items = ((Pred (record { name = name_A; args = ((Var 0 sort.Int) ∷ []) })) ∷ []) }); post = (record { opened = (sort.Int ∷ []); facts = ((Rel relation.Eq (Var 1 sort.Val) (Of unary.Vi (Var 2 sort.Int))) ∷ (Rel relation.Le (Var 0 sort.Int) (Var 2 sort.Int)) ∷ (Rel relation.Le (Var 2 sort.Int) (Of2 binary.Add (Var 0 sort.Int) (Number (pos 1)))) ∷ []); locals = []; items = ((Pred (record { name = name_A; args = ((Var 2 sort.Int) ∷ []) })) ∷ []) }) }) (record { is_void = false; name = name_f; params = (name_p ∷ []); vars = ((name_b, sort.Int) ∷ []); pre = (record { opened = []; facts = ((Rel relation.Le (Number (pos 0)) (Var 0 sort.Int)) ∷ (Rel relation.Le (Var 0 sort.Int) (Number (pos 5))) ∷ []); locals = ((name_p, (Of unary.Vi (Var 0 sort.Int))) ∷ []); items = ((Pred (record { name = name_A; args = ((Var 0 sort.Int) ∷ []) })) ∷ []) }); post = (record { opened = (sort.Int ∷ []); facts = ((Rel relation.Eq (Var 1 sort.Val) (Of unary.Vi (Var 2 sort.Int))) ∷ (Rel relation.Le (Var 0 sort.Int) (Var 2 sort.Int)) ∷ []); locals = []; items = ((Pred (record { name = name_A; args = ((Var 2 sort.Int) ∷ []) })) ∷ []) }) }) (s.Then 1 (s.Call ((Named name_b) ∷ []) ([]) ((record { lines = ((line.Comb (((pos 1), 1) ∷ ((pos 1), 2) ∷ [])) ∷ []) }) ∷ []) (name_z ∷ name_m ∷ [])) s.NoBlock s.End) ≡ (RefusedAt 2 0 10)
unfolding computing
subsumptions_13 = refl

subsumptions_14 : sub_verdict (record { predicates = ((record { name = name_A; args = (sort.Int ∷ []); cases = ((record { opened = []; facts = ((Rel relation.Le (Number (pos 0)) (Var 0 sort.Int)) ∷ []); locals = []; items = ([]) }) ∷ []) }) ∷ []); specs = ((record { is_void = false; name = name_f; params = (name_p ∷ []); vars = ((name_a, sort.Int) ∷ []); pre = (record { opened = []; facts = ((Rel relation.Le (Number (pos 0)) (Var 0 sort.Int)) ∷ (Rel relation.Le (Var 0 sort.Int) (Number (pos 9))) ∷ []); locals = ((name_p, (Of unary.Vi (Var 0 sort.Int))) ∷ []); items = ((Pred (record { name = name_A; args = ((Var 0 sort.Int) ∷ []) })) ∷ []) }); post = (record { opened = (sort.Int ∷ []); facts = ((Rel relation.Eq (Var 1 sort.Val) (Of unary.Vi (Var 2 sort.Int))) ∷ (Rel relation.Le (Var 0 sort.Int) (Var 2 sort.Int)) ∷ (Rel relation.Le (Var 2 sort.Int) (Of2 binary.Add (Var 0 sort.Int) (Number (pos 1)))) ∷ []); locals = []; items = ((Pred (record { name = name_A; args = ((Var 2 sort.Int) ∷ []) })) ∷ []) }) }) ∷ []) }) (record { is_void = false; name = name_f; params = (name_p ∷ []); vars = ((name_a, sort.Int) ∷ []); pre = (record { opened = []; facts = ((Rel relation.Le (Number (pos 0)) (Var 0 sort.Int)) ∷ (Rel relation.Le (Var 0 sort.Int) (Number (pos 9))) ∷ []); locals = ((name_p, (Of unary.Vi (Var 0 sort.Int))) ∷ []); items = ((Pred (record { name = name_A; args = ((Var 0 sort.Int) ∷ []) })) ∷ []) }); post = (record { opened = (sort.Int ∷ []); facts = ((Rel relation.Eq (Var 1 sort.Val) (Of unary.Vi (Var 2 sort.Int))) ∷ (Rel relation.Le (Var 0 sort.Int) (Var 2 sort.Int)) ∷ (Rel relation.Le (Var 2 sort.Int) (Of2 binary.Add (Var 0 sort.Int) (Number (pos 1)))) ∷ []); locals = []; items = ((Pred (record { name = name_A; args = ((Var 2 sort.Int) ∷ []) })) ∷ []) }) }) (record { is_void = false; name = name_f; params = (name_p ∷ []); vars = ((name_b, sort.Int) ∷ []); pre = (record { opened = []; facts = ((Rel relation.Le (Number (pos 0)) (Var 0 sort.Int)) ∷ (Rel relation.Le (Var 0 sort.Int) (Number (pos 5))) ∷ []); locals = ((name_p, (Of unary.Vi (Var 0 sort.Int))) ∷ []); items = ((Pred (record { name = name_A; args = ((Var 0 sort.Int) ∷ []) })) ∷ []) }); post = (record { opened = (sort.Int ∷ []); facts = ((Rel relation.Eq (Var 1 sort.Val) (Of unary.Vi (Var 2 sort.Int))) ∷ (Rel relation.Le (Var 0 sort.Int) (Var 2 sort.Int)) ∷ []); locals = []; items = ((Pred (record { name = name_A; args = ((Var 2 sort.Int) ∷ []) })) ∷ []) }) }) (s.Then 1 (s.Return ((Named name_b) ∷ []) ([]) ([])) s.NoBlock s.End) ≡ (RefusedAt 1 9 1)
unfolding computing
subsumptions_14 = refl

subsumptions_15 : sub_verdict (record { predicates = ((record { name = name_A; args = (sort.Int ∷ []); cases = ((record { opened = []; facts = ((Rel relation.Le (Number (pos 0)) (Var 0 sort.Int)) ∷ []); locals = []; items = ([]) }) ∷ []) }) ∷ []); specs = ((record { is_void = false; name = name_f; params = (name_p ∷ []); vars = ((name_a, sort.Int) ∷ []); pre = (record { opened = []; facts = ((Rel relation.Le (Number (pos 0)) (Var 0 sort.Int)) ∷ (Rel relation.Le (Var 0 sort.Int) (Number (pos 9))) ∷ []); locals = ((name_p, (Of unary.Vi (Var 0 sort.Int))) ∷ []); items = ((Pred (record { name = name_A; args = ((Var 0 sort.Int) ∷ []) })) ∷ []) }); post = (record { opened = (sort.Int ∷ []); facts = ((Rel relation.Eq (Var 1 sort.Val) (Of unary.Vi (Var 2 sort.Int))) ∷ (Rel relation.Le (Var 0 sort.Int) (Var 2 sort.Int)) ∷ (Rel relation.Le (Var 2 sort.Int) (Of2 binary.Add (Var 0 sort.Int) (Number (pos 1)))) ∷ []); locals = []; items = ((Pred (record { name = name_A; args = ((Var 2 sort.Int) ∷ []) })) ∷ []) }) }) ∷ []) }) (record { is_void = false; name = name_f; params = (name_p ∷ []); vars = ((name_a, sort.Int) ∷ []); pre = (record { opened = []; facts = ((Rel relation.Le (Number (pos 0)) (Var 0 sort.Int)) ∷ (Rel relation.Le (Var 0 sort.Int) (Number (pos 9))) ∷ []); locals = ((name_p, (Of unary.Vi (Var 0 sort.Int))) ∷ []); items = ((Pred (record { name = name_A; args = ((Var 0 sort.Int) ∷ []) })) ∷ []) }); post = (record { opened = (sort.Int ∷ []); facts = ((Rel relation.Eq (Var 1 sort.Val) (Of unary.Vi (Var 2 sort.Int))) ∷ (Rel relation.Le (Var 0 sort.Int) (Var 2 sort.Int)) ∷ (Rel relation.Le (Var 2 sort.Int) (Of2 binary.Add (Var 0 sort.Int) (Number (pos 1)))) ∷ []); locals = []; items = ((Pred (record { name = name_A; args = ((Var 2 sort.Int) ∷ []) })) ∷ []) }) }) (record { is_void = false; name = name_f; params = (name_p ∷ []); vars = ((name_b, sort.Int) ∷ []); pre = (record { opened = []; facts = ((Rel relation.Le (Number (pos 0)) (Var 0 sort.Int)) ∷ (Rel relation.Le (Var 0 sort.Int) (Number (pos 5))) ∷ []); locals = ((name_p, (Of unary.Vi (Var 0 sort.Int))) ∷ []); items = ((Pred (record { name = name_A; args = ((Var 0 sort.Int) ∷ []) })) ∷ []) }); post = (record { opened = (sort.Int ∷ []); facts = ((Rel relation.Eq (Var 1 sort.Val) (Of unary.Vi (Var 2 sort.Int))) ∷ (Rel relation.Le (Var 0 sort.Int) (Var 2 sort.Int)) ∷ []); locals = []; items = ((Pred (record { name = name_A; args = ((Var 2 sort.Int) ∷ []) })) ∷ []) }) }) s.End ≡ (RefusedAt 1 0 10)
unfolding computing
subsumptions_15 = refl

subsumptions_16 : sub_verdict (record { predicates = ((record { name = name_A; args = (sort.Int ∷ []); cases = ((record { opened = []; facts = ((Rel relation.Le (Number (pos 0)) (Var 0 sort.Int)) ∷ []); locals = []; items = ([]) }) ∷ []) }) ∷ []); specs = ((record { is_void = false; name = name_f; params = (name_p ∷ []); vars = ((name_a, sort.Int) ∷ []); pre = (record { opened = []; facts = ((Rel relation.Le (Number (pos 0)) (Var 0 sort.Int)) ∷ (Rel relation.Le (Var 0 sort.Int) (Number (pos 9))) ∷ []); locals = ((name_p, (Of unary.Vi (Var 0 sort.Int))) ∷ []); items = ((Pred (record { name = name_A; args = ((Var 0 sort.Int) ∷ []) })) ∷ []) }); post = (record { opened = (sort.Int ∷ []); facts = ((Rel relation.Eq (Var 1 sort.Val) (Of unary.Vi (Var 2 sort.Int))) ∷ (Rel relation.Le (Var 0 sort.Int) (Var 2 sort.Int)) ∷ (Rel relation.Le (Var 2 sort.Int) (Of2 binary.Add (Var 0 sort.Int) (Number (pos 1)))) ∷ []); locals = []; items = ((Pred (record { name = name_A; args = ((Var 2 sort.Int) ∷ []) })) ∷ []) }) }) ∷ []) }) (record { is_void = false; name = name_f; params = (name_p ∷ []); vars = ((name_a, sort.Int) ∷ []); pre = (record { opened = []; facts = ((Rel relation.Le (Number (pos 0)) (Var 0 sort.Int)) ∷ (Rel relation.Le (Var 0 sort.Int) (Number (pos 9))) ∷ []); locals = ((name_p, (Of unary.Vi (Var 0 sort.Int))) ∷ []); items = ((Pred (record { name = name_A; args = ((Var 0 sort.Int) ∷ []) })) ∷ []) }); post = (record { opened = (sort.Int ∷ []); facts = ((Rel relation.Eq (Var 1 sort.Val) (Of unary.Vi (Var 2 sort.Int))) ∷ (Rel relation.Le (Var 0 sort.Int) (Var 2 sort.Int)) ∷ (Rel relation.Le (Var 2 sort.Int) (Of2 binary.Add (Var 0 sort.Int) (Number (pos 1)))) ∷ []); locals = []; items = ((Pred (record { name = name_A; args = ((Var 2 sort.Int) ∷ []) })) ∷ []) }) }) (record { is_void = false; name = name_f; params = (name_p ∷ []); vars = ((name_b, sort.Int) ∷ []); pre = (record { opened = []; facts = ((Rel relation.Le (Number (pos 0)) (Var 0 sort.Int)) ∷ (Rel relation.Le (Var 0 sort.Int) (Number (pos 5))) ∷ []); locals = ((name_p, (Of unary.Vi (Var 0 sort.Int))) ∷ []); items = ((Pred (record { name = name_A; args = ((Var 0 sort.Int) ∷ []) })) ∷ []) }); post = (record { opened = (sort.Int ∷ []); facts = ((Rel relation.Eq (Var 1 sort.Val) (Of unary.Vi (Var 2 sort.Int))) ∷ (Rel relation.Le (Var 0 sort.Int) (Var 2 sort.Int)) ∷ []); locals = []; items = ((Pred (record { name = name_A; args = ((Var 2 sort.Int) ∷ []) })) ∷ []) }) }) (s.Then 1 (s.Call ((Named name_b) ∷ []) ([]) ((record { lines = ((line.Comb (((pos 1), 1) ∷ ((pos 1), 2) ∷ [])) ∷ []) }) ∷ []) (name_z ∷ name_m ∷ [])) s.NoBlock (s.Then 2 (s.Forget (forgotten.Local name_p)) s.NoBlock (s.Then 3 (s.Return ((Named name_m) ∷ []) ([]) ([])) s.NoBlock s.End))) ≡ Accepted
unfolding computing
subsumptions_16 = refl

subsumptions_17 : sub_verdict (record { predicates = ((record { name = name_A; args = (sort.Int ∷ []); cases = ((record { opened = []; facts = ((Rel relation.Le (Number (pos 0)) (Var 0 sort.Int)) ∷ []); locals = []; items = ([]) }) ∷ []) }) ∷ []); specs = ((record { is_void = false; name = name_f; params = (name_p ∷ []); vars = ((name_a, sort.Int) ∷ []); pre = (record { opened = []; facts = ((Rel relation.Le (Number (pos 0)) (Var 0 sort.Int)) ∷ (Rel relation.Le (Var 0 sort.Int) (Number (pos 9))) ∷ []); locals = ((name_p, (Of unary.Vi (Var 0 sort.Int))) ∷ []); items = ((Pred (record { name = name_A; args = ((Var 0 sort.Int) ∷ []) })) ∷ []) }); post = (record { opened = (sort.Int ∷ []); facts = ((Rel relation.Eq (Var 1 sort.Val) (Of unary.Vi (Var 2 sort.Int))) ∷ (Rel relation.Le (Var 0 sort.Int) (Var 2 sort.Int)) ∷ (Rel relation.Le (Var 2 sort.Int) (Of2 binary.Add (Var 0 sort.Int) (Number (pos 1)))) ∷ []); locals = []; items = ((Pred (record { name = name_A; args = ((Var 2 sort.Int) ∷ []) })) ∷ []) }) }) ∷ []) }) (record { is_void = false; name = name_f; params = (name_p ∷ []); vars = ((name_a, sort.Int) ∷ []); pre = (record { opened = []; facts = ((Rel relation.Le (Number (pos 0)) (Var 0 sort.Int)) ∷ (Rel relation.Le (Var 0 sort.Int) (Number (pos 9))) ∷ []); locals = ((name_p, (Of unary.Vi (Var 0 sort.Int))) ∷ []); items = ((Pred (record { name = name_A; args = ((Var 0 sort.Int) ∷ []) })) ∷ []) }); post = (record { opened = (sort.Int ∷ []); facts = ((Rel relation.Eq (Var 1 sort.Val) (Of unary.Vi (Var 2 sort.Int))) ∷ (Rel relation.Le (Var 0 sort.Int) (Var 2 sort.Int)) ∷ (Rel relation.Le (Var 2 sort.Int) (Of2 binary.Add (Var 0 sort.Int) (Number (pos 1)))) ∷ []); locals = []; items = ((Pred (record { name = name_A; args = ((Var 2 sort.Int) ∷ []) })) ∷ []) }) }) (record { is_void = false; name = name_f; params = (name_p ∷ []); vars = ((name_b, sort.Int) ∷ []); pre = (record { opened = []; facts = ((Rel relation.Le (Number (pos 0)) (Var 0 sort.Int)) ∷ (Rel relation.Le (Var 0 sort.Int) (Number (pos 5))) ∷ []); locals = ((name_p, (Of unary.Vi (Var 0 sort.Int))) ∷ []); items = ((Pred (record { name = name_A; args = ((Var 0 sort.Int) ∷ []) })) ∷ []) }); post = (record { opened = (sort.Int ∷ []); facts = ((Rel relation.Eq (Var 1 sort.Val) (Of unary.Vi (Var 2 sort.Int))) ∷ (Rel relation.Le (Var 0 sort.Int) (Var 2 sort.Int)) ∷ []); locals = []; items = ((Pred (record { name = name_A; args = ((Var 2 sort.Int) ∷ []) })) ∷ []) }) }) (s.Then 1 (s.Forget (forgotten.Local name_p)) s.NoBlock (s.Then 2 (s.Call ((Named name_b) ∷ []) ([]) ((record { lines = ((line.Comb (((pos 1), 1) ∷ ((pos 1), 2) ∷ [])) ∷ []) }) ∷ []) (name_z ∷ name_m ∷ [])) s.NoBlock (s.Then 3 (s.Return ((Named name_m) ∷ []) ([]) ([])) s.NoBlock s.End))) ≡ (RefusedAt 2 13 2)
unfolding computing
subsumptions_17 = refl

subsumptions_18 : sub_verdict (record { predicates = ((record { name = name_A; args = (sort.Int ∷ []); cases = ((record { opened = []; facts = ((Rel relation.Le (Number (pos 0)) (Var 0 sort.Int)) ∷ []); locals = []; items = ([]) }) ∷ []) }) ∷ []); specs = ((record { is_void = false; name = name_f; params = (name_p ∷ []); vars = ((name_a, sort.Int) ∷ []); pre = (record { opened = []; facts = ((Rel relation.Le (Number (pos 0)) (Var 0 sort.Int)) ∷ (Rel relation.Le (Var 0 sort.Int) (Number (pos 9))) ∷ []); locals = ((name_p, (Of unary.Vi (Var 0 sort.Int))) ∷ []); items = ((Pred (record { name = name_A; args = ((Var 0 sort.Int) ∷ []) })) ∷ []) }); post = (record { opened = (sort.Int ∷ []); facts = ((Rel relation.Eq (Var 1 sort.Val) (Of unary.Vi (Var 2 sort.Int))) ∷ (Rel relation.Le (Var 0 sort.Int) (Var 2 sort.Int)) ∷ (Rel relation.Le (Var 2 sort.Int) (Of2 binary.Add (Var 0 sort.Int) (Number (pos 1)))) ∷ []); locals = []; items = ((Pred (record { name = name_A; args = ((Var 2 sort.Int) ∷ []) })) ∷ []) }) }) ∷ []) }) (record { is_void = false; name = name_f; params = (name_p ∷ []); vars = ((name_a, sort.Int) ∷ []); pre = (record { opened = []; facts = ((Rel relation.Le (Number (pos 0)) (Var 0 sort.Int)) ∷ (Rel relation.Le (Var 0 sort.Int) (Number (pos 9))) ∷ []); locals = ((name_p, (Of unary.Vi (Var 0 sort.Int))) ∷ []); items = ((Pred (record { name = name_A; args = ((Var 0 sort.Int) ∷ []) })) ∷ []) }); post = (record { opened = (sort.Int ∷ []); facts = ((Rel relation.Eq (Var 1 sort.Val) (Of unary.Vi (Var 2 sort.Int))) ∷ (Rel relation.Le (Var 0 sort.Int) (Var 2 sort.Int)) ∷ (Rel relation.Le (Var 2 sort.Int) (Of2 binary.Add (Var 0 sort.Int) (Number (pos 1)))) ∷ []); locals = []; items = ((Pred (record { name = name_A; args = ((Var 2 sort.Int) ∷ []) })) ∷ []) }) }) (record { is_void = false; name = name_f; params = (name_p ∷ []); vars = ((name_b, sort.Int) ∷ []); pre = (record { opened = []; facts = ((Rel relation.Le (Number (pos 0)) (Var 0 sort.Int)) ∷ (Rel relation.Le (Var 0 sort.Int) (Number (pos 5))) ∷ []); locals = ((name_p, (Of unary.Vi (Var 0 sort.Int))) ∷ []); items = ((Pred (record { name = name_A; args = ((Var 0 sort.Int) ∷ []) })) ∷ []) }); post = (record { opened = (sort.Int ∷ []); facts = ((Rel relation.Eq (Var 1 sort.Val) (Of unary.Vi (Var 2 sort.Int))) ∷ (Rel relation.Le (Var 0 sort.Int) (Var 2 sort.Int)) ∷ []); locals = []; items = ((Pred (record { name = name_A; args = ((Var 2 sort.Int) ∷ []) })) ∷ []) }) }) (s.Then 1 (s.Call ((Named name_b) ∷ []) (0 ∷ []) ((record { lines = ((line.Comb (((pos 1), 1) ∷ ((pos 1), 2) ∷ [])) ∷ []) }) ∷ []) (name_z ∷ name_m ∷ [])) s.NoBlock (s.Then 2 (s.Return ((Named name_m) ∷ []) ([]) ([])) s.NoBlock s.End)) ≡ (RefusedAt 1 13 1)
unfolding computing
subsumptions_18 = refl

subsumptions_19 : sub_verdict (record { predicates = ((record { name = name_A; args = (sort.Int ∷ []); cases = ((record { opened = []; facts = ((Rel relation.Le (Number (pos 0)) (Var 0 sort.Int)) ∷ []); locals = []; items = ([]) }) ∷ []) }) ∷ []); specs = ((record { is_void = false; name = name_f; params = (name_p ∷ []); vars = ((name_a, sort.Int) ∷ []); pre = (record { opened = []; facts = ((Rel relation.Le (Number (pos 0)) (Var 0 sort.Int)) ∷ (Rel relation.Le (Var 0 sort.Int) (Number (pos 9))) ∷ []); locals = ((name_p, (Of unary.Vi (Var 0 sort.Int))) ∷ []); items = ((Pred (record { name = name_A; args = ((Var 0 sort.Int) ∷ []) })) ∷ []) }); post = (record { opened = (sort.Int ∷ []); facts = ((Rel relation.Eq (Var 1 sort.Val) (Of unary.Vi (Var 2 sort.Int))) ∷ (Rel relation.Le (Var 0 sort.Int) (Var 2 sort.Int)) ∷ (Rel relation.Le (Var 2 sort.Int) (Of2 binary.Add (Var 0 sort.Int) (Number (pos 1)))) ∷ []); locals = []; items = ((Pred (record { name = name_A; args = ((Var 2 sort.Int) ∷ []) })) ∷ []) }) }) ∷ []) }) (record { is_void = false; name = name_f; params = (name_p ∷ []); vars = ((name_a, sort.Int) ∷ []); pre = (record { opened = []; facts = ((Rel relation.Le (Number (pos 0)) (Var 0 sort.Int)) ∷ (Rel relation.Le (Var 0 sort.Int) (Number (pos 9))) ∷ []); locals = ((name_p, (Of unary.Vi (Var 0 sort.Int))) ∷ []); items = ((Pred (record { name = name_A; args = ((Var 0 sort.Int) ∷ []) })) ∷ []) }); post = (record { opened = (sort.Int ∷ []); facts = ((Rel relation.Eq (Var 1 sort.Val) (Of unary.Vi (Var 2 sort.Int))) ∷ (Rel relation.Le (Var 0 sort.Int) (Var 2 sort.Int)) ∷ (Rel relation.Le (Var 2 sort.Int) (Of2 binary.Add (Var 0 sort.Int) (Number (pos 1)))) ∷ []); locals = []; items = ((Pred (record { name = name_A; args = ((Var 2 sort.Int) ∷ []) })) ∷ []) }) }) (record { is_void = false; name = name_f; params = (name_p ∷ []); vars = ((name_b, sort.Int) ∷ []); pre = (record { opened = []; facts = ((Rel relation.Le (Number (pos 0)) (Var 0 sort.Int)) ∷ (Rel relation.Le (Var 0 sort.Int) (Number (pos 5))) ∷ []); locals = ((name_p, (Of unary.Vi (Var 0 sort.Int))) ∷ []); items = ((Pred (record { name = name_A; args = ((Var 0 sort.Int) ∷ []) })) ∷ []) }); post = (record { opened = (sort.Int ∷ []); facts = ((Rel relation.Eq (Var 1 sort.Val) (Of unary.Vi (Var 2 sort.Int))) ∷ (Rel relation.Le (Var 0 sort.Int) (Var 2 sort.Int)) ∷ []); locals = []; items = ((Pred (record { name = name_A; args = ((Var 2 sort.Int) ∷ []) })) ∷ []) }) }) (s.Then 1 (s.Set ([]) ([])) s.NoBlock s.End) ≡ (RefusedAt 1 2 1)
unfolding computing
subsumptions_19 = refl

subsumptions_20 : sub_verdict (record { predicates = ((record { name = name_A; args = (sort.Int ∷ []); cases = ((record { opened = []; facts = ((Rel relation.Le (Number (pos 0)) (Var 0 sort.Int)) ∷ []); locals = []; items = ([]) }) ∷ []) }) ∷ []); specs = ((record { is_void = false; name = name_f; params = (name_p ∷ []); vars = ((name_a, sort.Int) ∷ []); pre = (record { opened = []; facts = ((Rel relation.Le (Number (pos 0)) (Var 0 sort.Int)) ∷ (Rel relation.Le (Var 0 sort.Int) (Number (pos 9))) ∷ []); locals = ((name_p, (Of unary.Vi (Var 0 sort.Int))) ∷ []); items = ((Pred (record { name = name_A; args = ((Var 0 sort.Int) ∷ []) })) ∷ []) }); post = (record { opened = (sort.Int ∷ []); facts = ((Rel relation.Eq (Var 1 sort.Val) (Of unary.Vi (Var 2 sort.Int))) ∷ (Rel relation.Le (Var 0 sort.Int) (Var 2 sort.Int)) ∷ (Rel relation.Le (Var 2 sort.Int) (Of2 binary.Add (Var 0 sort.Int) (Number (pos 1)))) ∷ []); locals = []; items = ((Pred (record { name = name_A; args = ((Var 2 sort.Int) ∷ []) })) ∷ []) }) }) ∷ []) }) (record { is_void = false; name = name_f; params = (name_p ∷ []); vars = ((name_a, sort.Int) ∷ []); pre = (record { opened = []; facts = ((Rel relation.Le (Number (pos 0)) (Var 0 sort.Int)) ∷ (Rel relation.Le (Var 0 sort.Int) (Number (pos 9))) ∷ []); locals = ((name_p, (Of unary.Vi (Var 0 sort.Int))) ∷ []); items = ((Pred (record { name = name_A; args = ((Var 0 sort.Int) ∷ []) })) ∷ []) }); post = (record { opened = (sort.Int ∷ []); facts = ((Rel relation.Eq (Var 1 sort.Val) (Of unary.Vi (Var 2 sort.Int))) ∷ (Rel relation.Le (Var 0 sort.Int) (Var 2 sort.Int)) ∷ (Rel relation.Le (Var 2 sort.Int) (Of2 binary.Add (Var 0 sort.Int) (Number (pos 1)))) ∷ []); locals = []; items = ((Pred (record { name = name_A; args = ((Var 2 sort.Int) ∷ []) })) ∷ []) }) }) (record { is_void = false; name = name_f; params = (name_p ∷ []); vars = ((name_b, sort.Int) ∷ []); pre = (record { opened = []; facts = ((Rel relation.Le (Number (pos 0)) (Var 0 sort.Int)) ∷ (Rel relation.Le (Var 0 sort.Int) (Number (pos 5))) ∷ []); locals = ((name_p, (Of unary.Vi (Var 0 sort.Int))) ∷ []); items = ((Pred (record { name = name_A; args = ((Var 0 sort.Int) ∷ []) })) ∷ []) }); post = (record { opened = (sort.Int ∷ []); facts = ((Rel relation.Eq (Var 1 sort.Val) (Of unary.Vi (Var 2 sort.Int))) ∷ (Rel relation.Le (Var 0 sort.Int) (Var 2 sort.Int)) ∷ []); locals = []; items = ((Pred (record { name = name_A; args = ((Var 2 sort.Int) ∷ []) })) ∷ []) }) }) (s.Then 1 (s.Fall ((Named name_b) ∷ []) ([])) s.NoBlock s.End) ≡ (RefusedAt 1 10 1)
unfolding computing
subsumptions_20 = refl

subsumptions_21 : sub_verdict (record { predicates = ((record { name = name_A; args = (sort.Int ∷ []); cases = ((record { opened = []; facts = ((Rel relation.Le (Number (pos 0)) (Var 0 sort.Int)) ∷ []); locals = []; items = ([]) }) ∷ []) }) ∷ []); specs = ((record { is_void = true; name = name_f; params = ([]); vars = ((name_n, sort.Int) ∷ []); pre = (record { opened = []; facts = ([]); locals = []; items = ((Pred (record { name = name_A; args = ((Var 0 sort.Int) ∷ []) })) ∷ []) }); post = (record { opened = (sort.Int ∷ []); facts = ([]); locals = []; items = ((Pred (record { name = name_A; args = ((Var 2 sort.Int) ∷ []) })) ∷ []) }) }) ∷ []) }) (record { is_void = true; name = name_f; params = ([]); vars = ((name_n, sort.Int) ∷ []); pre = (record { opened = []; facts = ([]); locals = []; items = ((Pred (record { name = name_A; args = ((Var 0 sort.Int) ∷ []) })) ∷ []) }); post = (record { opened = (sort.Int ∷ []); facts = ([]); locals = []; items = ((Pred (record { name = name_A; args = ((Var 2 sort.Int) ∷ []) })) ∷ []) }) }) (record { is_void = true; name = name_f; params = ([]); vars = ((name_n, sort.Int) ∷ []); pre = (record { opened = []; facts = ([]); locals = []; items = ((Pred (record { name = name_A; args = ((Var 0 sort.Int) ∷ []) })) ∷ []) }); post = (record { opened = (sort.Int ∷ []); facts = ([]); locals = []; items = ((Pred (record { name = name_A; args = ((Var 2 sort.Int) ∷ []) })) ∷ []) }) }) (s.Then 1 (s.Call ((Named name_n) ∷ []) ([]) ([]) (name_m ∷ [])) s.NoBlock (s.Then 2 (s.Return ([]) ([]) ([])) s.NoBlock s.End)) ≡ (RefusedAt 2 9 1)
unfolding computing
subsumptions_21 = refl

subsumptions_22 : sub_verdict (record { predicates = ((record { name = name_A; args = (sort.Int ∷ []); cases = ((record { opened = []; facts = ((Rel relation.Le (Number (pos 0)) (Var 0 sort.Int)) ∷ []); locals = []; items = ([]) }) ∷ []) }) ∷ []); specs = ((record { is_void = true; name = name_f; params = ([]); vars = ((name_n, sort.Int) ∷ []); pre = (record { opened = []; facts = ([]); locals = []; items = ((Pred (record { name = name_A; args = ((Var 0 sort.Int) ∷ []) })) ∷ []) }); post = (record { opened = []; facts = ([]); locals = []; items = ((Pred (record { name = name_A; args = ((Of2 binary.Add (Var 0 sort.Int) (Number (pos 1))) ∷ []) })) ∷ []) }) }) ∷ []) }) (record { is_void = true; name = name_f; params = ([]); vars = ((name_n, sort.Int) ∷ []); pre = (record { opened = []; facts = ([]); locals = []; items = ((Pred (record { name = name_A; args = ((Var 0 sort.Int) ∷ []) })) ∷ []) }); post = (record { opened = []; facts = ([]); locals = []; items = ((Pred (record { name = name_A; args = ((Of2 binary.Add (Var 0 sort.Int) (Number (pos 1))) ∷ []) })) ∷ []) }) }) (record { is_void = true; name = name_f; params = ([]); vars = ((name_n, sort.Int) ∷ []); pre = (record { opened = []; facts = ([]); locals = []; items = ((Pred (record { name = name_A; args = ((Var 0 sort.Int) ∷ []) })) ∷ []) }); post = (record { opened = (sort.Int ∷ []); facts = ([]); locals = []; items = ((Pred (record { name = name_A; args = ((Var 2 sort.Int) ∷ []) })) ∷ []) }) }) (s.Then 1 (s.Call ((Named name_n) ∷ []) ([]) ([]) (name_m ∷ [])) s.NoBlock (s.Then 2 (s.Return ([]) ([]) ([])) s.NoBlock s.End)) ≡ (RefusedAt 1 13 6)
unfolding computing
subsumptions_22 = refl

subsumptions_23 : sub_verdict (record { predicates = ((record { name = name_A; args = (sort.Int ∷ []); cases = ((record { opened = []; facts = ((Rel relation.Le (Number (pos 0)) (Var 0 sort.Int)) ∷ []); locals = []; items = ([]) }) ∷ []) }) ∷ []); specs = ((record { is_void = true; name = name_f; params = ([]); vars = ((name_n, sort.Int) ∷ []); pre = (record { opened = []; facts = ([]); locals = []; items = ((Pred (record { name = name_A; args = ((Var 0 sort.Int) ∷ []) })) ∷ []) }); post = (record { opened = (sort.Int ∷ []); facts = ([]); locals = []; items = ((Pred (record { name = name_A; args = ((Var 2 sort.Int) ∷ []) })) ∷ []) }) }) ∷ []) }) (record { is_void = true; name = name_f; params = ([]); vars = ((name_n, sort.Int) ∷ []); pre = (record { opened = []; facts = ([]); locals = []; items = ((Pred (record { name = name_A; args = ((Var 0 sort.Int) ∷ []) })) ∷ []) }); post = (record { opened = (sort.Int ∷ []); facts = ([]); locals = []; items = ((Pred (record { name = name_A; args = ((Var 2 sort.Int) ∷ []) })) ∷ []) }) }) (record { is_void = true; name = name_f; params = ([]); vars = ((name_n, sort.Int) ∷ []); pre = (record { opened = []; facts = ([]); locals = []; items = ((Pred (record { name = name_A; args = ((Var 0 sort.Int) ∷ []) })) ∷ []) }); post = (record { opened = []; facts = ([]); locals = []; items = ((Pred (record { name = name_A; args = ((Of2 binary.Add (Var 0 sort.Int) (Number (pos 1))) ∷ []) })) ∷ []) }) }) (s.Then 1 (s.Call ((Named name_n) ∷ []) ([]) ([]) (name_m ∷ [])) s.NoBlock (s.Then 2 (s.Return ([]) ([]) ([])) s.NoBlock s.End)) ≡ (RefusedAt 2 9 5)
unfolding computing
subsumptions_23 = refl

subsumptions_24 : sub_verdict (record { predicates = ((record { name = name_A; args = (sort.Int ∷ []); cases = ((record { opened = []; facts = ((Rel relation.Le (Number (pos 0)) (Var 0 sort.Int)) ∷ []); locals = []; items = ([]) }) ∷ []) }) ∷ []); specs = ((record { is_void = true; name = name_f; params = ([]); vars = ((name_n, sort.Int) ∷ []); pre = (record { opened = []; facts = ([]); locals = []; items = ((Pred (record { name = name_A; args = ((Var 0 sort.Int) ∷ []) })) ∷ []) }); post = (record { opened = []; facts = ([]); locals = []; items = ((Pred (record { name = name_A; args = ((Of2 binary.Add (Var 0 sort.Int) (Number (pos 1))) ∷ []) })) ∷ []) }) }) ∷ []) }) (record { is_void = true; name = name_f; params = ([]); vars = ((name_n, sort.Int) ∷ []); pre = (record { opened = []; facts = ([]); locals = []; items = ((Pred (record { name = name_A; args = ((Var 0 sort.Int) ∷ []) })) ∷ []) }); post = (record { opened = []; facts = ([]); locals = []; items = ((Pred (record { name = name_A; args = ((Of2 binary.Add (Var 0 sort.Int) (Number (pos 1))) ∷ []) })) ∷ []) }) }) (record { is_void = true; name = name_f; params = ([]); vars = ((name_n, sort.Int) ∷ []); pre = (record { opened = []; facts = ([]); locals = []; items = ((Pred (record { name = name_A; args = ((Var 0 sort.Int) ∷ []) })) ∷ []) }); post = (record { opened = []; facts = ([]); locals = []; items = ((Pred (record { name = name_A; args = ((Of2 binary.Add (Var 0 sort.Int) (Number (pos 1))) ∷ []) })) ∷ []) }) }) (s.Then 1 (s.Call ((Named name_n) ∷ []) ([]) ([]) (name_m ∷ [])) s.NoBlock (s.Then 2 (s.Return ([]) ([]) ([])) s.NoBlock s.End)) ≡ (RefusedAt 1 13 6)
unfolding computing
subsumptions_24 = refl

subsumptions_25 : sub_verdict (record { predicates = ((record { name = name_A; args = (sort.Int ∷ []); cases = ((record { opened = []; facts = ((Rel relation.Le (Number (pos 0)) (Var 0 sort.Int)) ∷ []); locals = []; items = ([]) }) ∷ []) }) ∷ []); specs = ((record { is_void = true; name = name_f; params = ([]); vars = ((name_n, sort.Int) ∷ []); pre = (record { opened = []; facts = ([]); locals = []; items = ((Pred (record { name = name_A; args = ((Var 0 sort.Int) ∷ []) })) ∷ []) }); post = (record { opened = (sort.Int ∷ []); facts = ([]); locals = []; items = ((Pred (record { name = name_A; args = ((Var 2 sort.Int) ∷ []) })) ∷ []) }) }) ∷ []) }) (record { is_void = true; name = name_f; params = ([]); vars = ((name_n, sort.Int) ∷ []); pre = (record { opened = []; facts = ([]); locals = []; items = ((Pred (record { name = name_A; args = ((Var 0 sort.Int) ∷ []) })) ∷ []) }); post = (record { opened = (sort.Int ∷ []); facts = ([]); locals = []; items = ((Pred (record { name = name_A; args = ((Var 2 sort.Int) ∷ []) })) ∷ []) }) }) (record { is_void = true; name = name_f; params = ([]); vars = ((name_n, sort.Int) ∷ []); pre = (record { opened = []; facts = ([]); locals = []; items = ((Pred (record { name = name_A; args = ((Var 0 sort.Int) ∷ []) })) ∷ []) }); post = (record { opened = (sort.Int ∷ []); facts = ([]); locals = []; items = ((Pred (record { name = name_A; args = ((Var 2 sort.Int) ∷ []) })) ∷ []) }) }) (s.Then 1 (s.Call ((Named name_n) ∷ []) ([]) ([]) (name_m ∷ [])) s.NoBlock (s.Then 2 (s.Return ((Named name_m) ∷ []) ([]) ([])) s.NoBlock s.End)) ≡ Accepted
unfolding computing
subsumptions_25 = refl

subsumptions_26 : sub_verdict (record { predicates = ((record { name = name_A; args = (sort.Int ∷ []); cases = ((record { opened = []; facts = ((Rel relation.Le (Number (pos 0)) (Var 0 sort.Int)) ∷ []); locals = []; items = ([]) }) ∷ []) }) ∷ []); specs = ((record { is_void = true; name = name_f; params = ([]); vars = ((name_n, sort.Int) ∷ []); pre = (record { opened = []; facts = ([]); locals = []; items = ((Pred (record { name = name_A; args = ((Var 0 sort.Int) ∷ []) })) ∷ []) }); post = (record { opened = []; facts = ([]); locals = []; items = ((Pred (record { name = name_A; args = ((Of2 binary.Add (Var 0 sort.Int) (Number (pos 1))) ∷ []) })) ∷ []) }) }) ∷ []) }) (record { is_void = true; name = name_f; params = ([]); vars = ((name_n, sort.Int) ∷ []); pre = (record { opened = []; facts = ([]); locals = []; items = ((Pred (record { name = name_A; args = ((Var 0 sort.Int) ∷ []) })) ∷ []) }); post = (record { opened = []; facts = ([]); locals = []; items = ((Pred (record { name = name_A; args = ((Of2 binary.Add (Var 0 sort.Int) (Number (pos 1))) ∷ []) })) ∷ []) }) }) (record { is_void = true; name = name_f; params = ([]); vars = ((name_n, sort.Int) ∷ []); pre = (record { opened = []; facts = ([]); locals = []; items = ((Pred (record { name = name_A; args = ((Var 0 sort.Int) ∷ []) })) ∷ []) }); post = (record { opened = (sort.Int ∷ []); facts = ([]); locals = []; items = ((Pred (record { name = name_A; args = ((Var 2 sort.Int) ∷ []) })) ∷ []) }) }) (s.Then 1 (s.Call ((Named name_n) ∷ []) ([]) ([]) (name_m ∷ [])) s.NoBlock (s.Then 2 (s.Return ((Named name_m) ∷ []) ([]) ([])) s.NoBlock s.End)) ≡ (RefusedAt 1 13 6)
unfolding computing
subsumptions_26 = refl

subsumptions_27 : sub_verdict (record { predicates = ((record { name = name_A; args = (sort.Int ∷ []); cases = ((record { opened = []; facts = ((Rel relation.Le (Number (pos 0)) (Var 0 sort.Int)) ∷ []); locals = []; items = ([]) }) ∷ []) }) ∷ []); specs = ((record { is_void = true; name = name_f; params = ([]); vars = ((name_n, sort.Int) ∷ []); pre = (record { opened = []; facts = ([]); locals = []; items = ((Pred (record { name = name_A; args = ((Var 0 sort.Int) ∷ []) })) ∷ []) }); post = (record { opened = (sort.Int ∷ []); facts = ([]); locals = []; items = ((Pred (record { name = name_A; args = ((Var 2 sort.Int) ∷ []) })) ∷ []) }) }) ∷ []) }) (record { is_void = true; name = name_f; params = ([]); vars = ((name_n, sort.Int) ∷ []); pre = (record { opened = []; facts = ([]); locals = []; items = ((Pred (record { name = name_A; args = ((Var 0 sort.Int) ∷ []) })) ∷ []) }); post = (record { opened = (sort.Int ∷ []); facts = ([]); locals = []; items = ((Pred (record { name = name_A; args = ((Var 2 sort.Int) ∷ []) })) ∷ []) }) }) (record { is_void = true; name = name_f; params = ([]); vars = ((name_n, sort.Int) ∷ []); pre = (record { opened = []; facts = ([]); locals = []; items = ((Pred (record { name = name_A; args = ((Var 0 sort.Int) ∷ []) })) ∷ []) }); post = (record { opened = []; facts = ([]); locals = []; items = ((Pred (record { name = name_A; args = ((Of2 binary.Add (Var 0 sort.Int) (Number (pos 1))) ∷ []) })) ∷ []) }) }) (s.Then 1 (s.Call ((Named name_n) ∷ []) ([]) ([]) (name_m ∷ [])) s.NoBlock (s.Then 2 (s.Return ((Named name_m) ∷ []) ([]) ([])) s.NoBlock s.End)) ≡ (RefusedAt 2 9 1)
unfolding computing
subsumptions_27 = refl

subsumptions_28 : sub_verdict (record { predicates = ((record { name = name_A; args = (sort.Int ∷ []); cases = ((record { opened = []; facts = ((Rel relation.Le (Number (pos 0)) (Var 0 sort.Int)) ∷ []); locals = []; items = ([]) }) ∷ []) }) ∷ []); specs = ((record { is_void = true; name = name_f; params = ([]); vars = ((name_n, sort.Int) ∷ []); pre = (record { opened = []; facts = ([]); locals = []; items = ((Pred (record { name = name_A; args = ((Var 0 sort.Int) ∷ []) })) ∷ []) }); post = (record { opened = []; facts = ([]); locals = []; items = ((Pred (record { name = name_A; args = ((Of2 binary.Add (Var 0 sort.Int) (Number (pos 1))) ∷ []) })) ∷ []) }) }) ∷ []) }) (record { is_void = true; name = name_f; params = ([]); vars = ((name_n, sort.Int) ∷ []); pre = (record { opened = []; facts = ([]); locals = []; items = ((Pred (record { name = name_A; args = ((Var 0 sort.Int) ∷ []) })) ∷ []) }); post = (record { opened = []; facts = ([]); locals = []; items = ((Pred (record { name = name_A; args = ((Of2 binary.Add (Var 0 sort.Int) (Number (pos 1))) ∷ []) })) ∷ []) }) }) (record { is_void = true; name = name_f; params = ([]); vars = ((name_n, sort.Int) ∷ []); pre = (record { opened = []; facts = ([]); locals = []; items = ((Pred (record { name = name_A; args = ((Var 0 sort.Int) ∷ []) })) ∷ []) }); post = (record { opened = []; facts = ([]); locals = []; items = ((Pred (record { name = name_A; args = ((Of2 binary.Add (Var 0 sort.Int) (Number (pos 1))) ∷ []) })) ∷ []) }) }) (s.Then 1 (s.Call ((Named name_n) ∷ []) ([]) ([]) (name_m ∷ [])) s.NoBlock (s.Then 2 (s.Return ((Named name_m) ∷ []) ([]) ([])) s.NoBlock s.End)) ≡ (RefusedAt 1 13 6)
unfolding computing
subsumptions_28 = refl

subsumptions_29 : sub_verdict (record { predicates = ((record { name = name_A; args = (sort.Int ∷ []); cases = ((record { opened = []; facts = ((Rel relation.Le (Number (pos 0)) (Var 0 sort.Int)) ∷ []); locals = []; items = ([]) }) ∷ []) }) ∷ []); specs = ((record { is_void = true; name = name_f; params = ([]); vars = ((name_n, sort.Int) ∷ []); pre = (record { opened = []; facts = ([]); locals = []; items = ((Pred (record { name = name_A; args = ((Var 0 sort.Int) ∷ []) })) ∷ []) }); post = (record { opened = (sort.Int ∷ []); facts = ([]); locals = []; items = ((Pred (record { name = name_A; args = ((Var 2 sort.Int) ∷ []) })) ∷ []) }) }) ∷ []) }) (record { is_void = true; name = name_f; params = ([]); vars = ((name_n, sort.Int) ∷ []); pre = (record { opened = []; facts = ([]); locals = []; items = ((Pred (record { name = name_A; args = ((Var 0 sort.Int) ∷ []) })) ∷ []) }); post = (record { opened = (sort.Int ∷ []); facts = ([]); locals = []; items = ((Pred (record { name = name_A; args = ((Var 2 sort.Int) ∷ []) })) ∷ []) }) }) (record { is_void = true; name = name_f; params = ([]); vars = ((name_n, sort.Int) ∷ []); pre = (record { opened = []; facts = ([]); locals = []; items = ((Pred (record { name = name_A; args = ((Var 0 sort.Int) ∷ []) })) ∷ []) }); post = (record { opened = (sort.Int ∷ []); facts = ([]); locals = []; items = ((Pred (record { name = name_A; args = ((Var 2 sort.Int) ∷ []) })) ∷ []) }) }) (s.Then 1 (s.Call ((Named name_n) ∷ []) ([]) ([]) (name_m ∷ [])) s.NoBlock (s.Then 2 (s.Fall ((Named name_m) ∷ []) ([])) s.NoBlock s.End)) ≡ (RefusedAt 2 10 1)
unfolding computing
subsumptions_29 = refl

subsumptions_30 : sub_verdict (record { predicates = ((record { name = name_A; args = (sort.Int ∷ []); cases = ((record { opened = []; facts = ((Rel relation.Le (Number (pos 0)) (Var 0 sort.Int)) ∷ []); locals = []; items = ([]) }) ∷ []) }) ∷ []); specs = ((record { is_void = true; name = name_f; params = ([]); vars = ((name_n, sort.Int) ∷ []); pre = (record { opened = []; facts = ([]); locals = []; items = ((Pred (record { name = name_A; args = ((Var 0 sort.Int) ∷ []) })) ∷ []) }); post = (record { opened = []; facts = ([]); locals = []; items = ((Pred (record { name = name_A; args = ((Of2 binary.Add (Var 0 sort.Int) (Number (pos 1))) ∷ []) })) ∷ []) }) }) ∷ []) }) (record { is_void = true; name = name_f; params = ([]); vars = ((name_n, sort.Int) ∷ []); pre = (record { opened = []; facts = ([]); locals = []; items = ((Pred (record { name = name_A; args = ((Var 0 sort.Int) ∷ []) })) ∷ []) }); post = (record { opened = []; facts = ([]); locals = []; items = ((Pred (record { name = name_A; args = ((Of2 binary.Add (Var 0 sort.Int) (Number (pos 1))) ∷ []) })) ∷ []) }) }) (record { is_void = true; name = name_f; params = ([]); vars = ((name_n, sort.Int) ∷ []); pre = (record { opened = []; facts = ([]); locals = []; items = ((Pred (record { name = name_A; args = ((Var 0 sort.Int) ∷ []) })) ∷ []) }); post = (record { opened = (sort.Int ∷ []); facts = ([]); locals = []; items = ((Pred (record { name = name_A; args = ((Var 2 sort.Int) ∷ []) })) ∷ []) }) }) (s.Then 1 (s.Call ((Named name_n) ∷ []) ([]) ([]) (name_m ∷ [])) s.NoBlock (s.Then 2 (s.Fall ((Named name_m) ∷ []) ([])) s.NoBlock s.End)) ≡ (RefusedAt 1 13 6)
unfolding computing
subsumptions_30 = refl

subsumptions_31 : sub_verdict (record { predicates = ((record { name = name_A; args = (sort.Int ∷ []); cases = ((record { opened = []; facts = ((Rel relation.Le (Number (pos 0)) (Var 0 sort.Int)) ∷ []); locals = []; items = ([]) }) ∷ []) }) ∷ []); specs = ((record { is_void = true; name = name_f; params = ([]); vars = ((name_n, sort.Int) ∷ []); pre = (record { opened = []; facts = ([]); locals = []; items = ((Pred (record { name = name_A; args = ((Var 0 sort.Int) ∷ []) })) ∷ []) }); post = (record { opened = (sort.Int ∷ []); facts = ([]); locals = []; items = ((Pred (record { name = name_A; args = ((Var 2 sort.Int) ∷ []) })) ∷ []) }) }) ∷ []) }) (record { is_void = true; name = name_f; params = ([]); vars = ((name_n, sort.Int) ∷ []); pre = (record { opened = []; facts = ([]); locals = []; items = ((Pred (record { name = name_A; args = ((Var 0 sort.Int) ∷ []) })) ∷ []) }); post = (record { opened = (sort.Int ∷ []); facts = ([]); locals = []; items = ((Pred (record { name = name_A; args = ((Var 2 sort.Int) ∷ []) })) ∷ []) }) }) (record { is_void = true; name = name_f; params = ([]); vars = ((name_n, sort.Int) ∷ []); pre = (record { opened = []; facts = ([]); locals = []; items = ((Pred (record { name = name_A; args = ((Var 0 sort.Int) ∷ []) })) ∷ []) }); post = (record { opened = []; facts = ([]); locals = []; items = ((Pred (record { name = name_A; args = ((Of2 binary.Add (Var 0 sort.Int) (Number (pos 1))) ∷ []) })) ∷ []) }) }) (s.Then 1 (s.Call ((Named name_n) ∷ []) ([]) ([]) (name_m ∷ [])) s.NoBlock (s.Then 2 (s.Fall ((Named name_m) ∷ []) ([])) s.NoBlock s.End)) ≡ (RefusedAt 2 10 1)
unfolding computing
subsumptions_31 = refl

subsumptions_32 : sub_verdict (record { predicates = ((record { name = name_A; args = (sort.Int ∷ []); cases = ((record { opened = []; facts = ((Rel relation.Le (Number (pos 0)) (Var 0 sort.Int)) ∷ []); locals = []; items = ([]) }) ∷ []) }) ∷ []); specs = ((record { is_void = true; name = name_f; params = ([]); vars = ((name_n, sort.Int) ∷ []); pre = (record { opened = []; facts = ([]); locals = []; items = ((Pred (record { name = name_A; args = ((Var 0 sort.Int) ∷ []) })) ∷ []) }); post = (record { opened = []; facts = ([]); locals = []; items = ((Pred (record { name = name_A; args = ((Of2 binary.Add (Var 0 sort.Int) (Number (pos 1))) ∷ []) })) ∷ []) }) }) ∷ []) }) (record { is_void = true; name = name_f; params = ([]); vars = ((name_n, sort.Int) ∷ []); pre = (record { opened = []; facts = ([]); locals = []; items = ((Pred (record { name = name_A; args = ((Var 0 sort.Int) ∷ []) })) ∷ []) }); post = (record { opened = []; facts = ([]); locals = []; items = ((Pred (record { name = name_A; args = ((Of2 binary.Add (Var 0 sort.Int) (Number (pos 1))) ∷ []) })) ∷ []) }) }) (record { is_void = true; name = name_f; params = ([]); vars = ((name_n, sort.Int) ∷ []); pre = (record { opened = []; facts = ([]); locals = []; items = ((Pred (record { name = name_A; args = ((Var 0 sort.Int) ∷ []) })) ∷ []) }); post = (record { opened = []; facts = ([]); locals = []; items = ((Pred (record { name = name_A; args = ((Of2 binary.Add (Var 0 sort.Int) (Number (pos 1))) ∷ []) })) ∷ []) }) }) (s.Then 1 (s.Call ((Named name_n) ∷ []) ([]) ([]) (name_m ∷ [])) s.NoBlock (s.Then 2 (s.Fall ((Named name_m) ∷ []) ([])) s.NoBlock s.End)) ≡ (RefusedAt 1 13 6)
unfolding computing
subsumptions_32 = refl

subsumptions_33 : sub_verdict (record { predicates = ((record { name = name_A; args = (sort.Int ∷ []); cases = ((record { opened = []; facts = ((Rel relation.Le (Number (pos 0)) (Var 0 sort.Int)) ∷ []); locals = []; items = ([]) }) ∷ []) }) ∷ []); specs = ((record { is_void = true; name = name_f; params = ([]); vars = ((name_n, sort.Int) ∷ []); pre = (record { opened = []; facts = ([]); locals = []; items = ((Pred (record { name = name_A; args = ((Var 0 sort.Int) ∷ []) })) ∷ []) }); post = (record { opened = (sort.Int ∷ []); facts = ([]); locals = []; items = ((Pred (record { name = name_A; args = ((Var 2 sort.Int) ∷ []) })) ∷ []) }) }) ∷ []) }) (record { is_void = true; name = name_f; params = ([]); vars = ((name_n, sort.Int) ∷ []); pre = (record { opened = []; facts = ([]); locals = []; items = ((Pred (record { name = name_A; args = ((Var 0 sort.Int) ∷ []) })) ∷ []) }); post = (record { opened = (sort.Int ∷ []); facts = ([]); locals = []; items = ((Pred (record { name = name_A; args = ((Var 2 sort.Int) ∷ []) })) ∷ []) }) }) (record { is_void = true; name = name_f; params = ([]); vars = ((name_n, sort.Int) ∷ []); pre = (record { opened = []; facts = ([]); locals = []; items = ((Pred (record { name = name_A; args = ((Var 0 sort.Int) ∷ []) })) ∷ []) }); post = (record { opened = (sort.Int ∷ []); facts = ([]); locals = []; items = ((Pred (record { name = name_A; args = ((Var 2 sort.Int) ∷ []) })) ∷ []) }) }) (s.Then 1 (s.Call ((Named name_n) ∷ []) ([]) ([]) ([])) s.NoBlock (s.Then 2 (s.Return ((Of2 binary.Add (Named name_n) (Number (pos 1))) ∷ []) ([]) ([])) s.NoBlock s.End)) ≡ (RefusedAt 1 13 6)
unfolding computing
subsumptions_33 = refl

subsumptions_34 : sub_verdict (record { predicates = ((record { name = name_A; args = (sort.Int ∷ []); cases = ((record { opened = []; facts = ((Rel relation.Le (Number (pos 0)) (Var 0 sort.Int)) ∷ []); locals = []; items = ([]) }) ∷ []) }) ∷ []); specs = ((record { is_void = true; name = name_f; params = ([]); vars = ((name_n, sort.Int) ∷ []); pre = (record { opened = []; facts = ([]); locals = []; items = ((Pred (record { name = name_A; args = ((Var 0 sort.Int) ∷ []) })) ∷ []) }); post = (record { opened = []; facts = ([]); locals = []; items = ((Pred (record { name = name_A; args = ((Of2 binary.Add (Var 0 sort.Int) (Number (pos 1))) ∷ []) })) ∷ []) }) }) ∷ []) }) (record { is_void = true; name = name_f; params = ([]); vars = ((name_n, sort.Int) ∷ []); pre = (record { opened = []; facts = ([]); locals = []; items = ((Pred (record { name = name_A; args = ((Var 0 sort.Int) ∷ []) })) ∷ []) }); post = (record { opened = []; facts = ([]); locals = []; items = ((Pred (record { name = name_A; args = ((Of2 binary.Add (Var 0 sort.Int) (Number (pos 1))) ∷ []) })) ∷ []) }) }) (record { is_void = true; name = name_f; params = ([]); vars = ((name_n, sort.Int) ∷ []); pre = (record { opened = []; facts = ([]); locals = []; items = ((Pred (record { name = name_A; args = ((Var 0 sort.Int) ∷ []) })) ∷ []) }); post = (record { opened = (sort.Int ∷ []); facts = ([]); locals = []; items = ((Pred (record { name = name_A; args = ((Var 2 sort.Int) ∷ []) })) ∷ []) }) }) (s.Then 1 (s.Call ((Named name_n) ∷ []) ([]) ([]) ([])) s.NoBlock (s.Then 2 (s.Return ((Of2 binary.Add (Named name_n) (Number (pos 1))) ∷ []) ([]) ([])) s.NoBlock s.End)) ≡ Accepted
unfolding computing
subsumptions_34 = refl

subsumptions_35 : sub_verdict (record { predicates = ((record { name = name_A; args = (sort.Int ∷ []); cases = ((record { opened = []; facts = ((Rel relation.Le (Number (pos 0)) (Var 0 sort.Int)) ∷ []); locals = []; items = ([]) }) ∷ []) }) ∷ []); specs = ((record { is_void = true; name = name_f; params = ([]); vars = ((name_n, sort.Int) ∷ []); pre = (record { opened = []; facts = ([]); locals = []; items = ((Pred (record { name = name_A; args = ((Var 0 sort.Int) ∷ []) })) ∷ []) }); post = (record { opened = (sort.Int ∷ []); facts = ([]); locals = []; items = ((Pred (record { name = name_A; args = ((Var 2 sort.Int) ∷ []) })) ∷ []) }) }) ∷ []) }) (record { is_void = true; name = name_f; params = ([]); vars = ((name_n, sort.Int) ∷ []); pre = (record { opened = []; facts = ([]); locals = []; items = ((Pred (record { name = name_A; args = ((Var 0 sort.Int) ∷ []) })) ∷ []) }); post = (record { opened = (sort.Int ∷ []); facts = ([]); locals = []; items = ((Pred (record { name = name_A; args = ((Var 2 sort.Int) ∷ []) })) ∷ []) }) }) (record { is_void = true; name = name_f; params = ([]); vars = ((name_n, sort.Int) ∷ []); pre = (record { opened = []; facts = ([]); locals = []; items = ((Pred (record { name = name_A; args = ((Var 0 sort.Int) ∷ []) })) ∷ []) }); post = (record { opened = []; facts = ([]); locals = []; items = ((Pred (record { name = name_A; args = ((Of2 binary.Add (Var 0 sort.Int) (Number (pos 1))) ∷ []) })) ∷ []) }) }) (s.Then 1 (s.Call ((Named name_n) ∷ []) ([]) ([]) ([])) s.NoBlock (s.Then 2 (s.Return ((Of2 binary.Add (Named name_n) (Number (pos 1))) ∷ []) ([]) ([])) s.NoBlock s.End)) ≡ (RefusedAt 1 13 6)
unfolding computing
subsumptions_35 = refl

subsumptions_36 : sub_verdict (record { predicates = ((record { name = name_A; args = (sort.Int ∷ []); cases = ((record { opened = []; facts = ((Rel relation.Le (Number (pos 0)) (Var 0 sort.Int)) ∷ []); locals = []; items = ([]) }) ∷ []) }) ∷ []); specs = ((record { is_void = true; name = name_f; params = ([]); vars = ((name_n, sort.Int) ∷ []); pre = (record { opened = []; facts = ([]); locals = []; items = ((Pred (record { name = name_A; args = ((Var 0 sort.Int) ∷ []) })) ∷ []) }); post = (record { opened = []; facts = ([]); locals = []; items = ((Pred (record { name = name_A; args = ((Of2 binary.Add (Var 0 sort.Int) (Number (pos 1))) ∷ []) })) ∷ []) }) }) ∷ []) }) (record { is_void = true; name = name_f; params = ([]); vars = ((name_n, sort.Int) ∷ []); pre = (record { opened = []; facts = ([]); locals = []; items = ((Pred (record { name = name_A; args = ((Var 0 sort.Int) ∷ []) })) ∷ []) }); post = (record { opened = []; facts = ([]); locals = []; items = ((Pred (record { name = name_A; args = ((Of2 binary.Add (Var 0 sort.Int) (Number (pos 1))) ∷ []) })) ∷ []) }) }) (record { is_void = true; name = name_f; params = ([]); vars = ((name_n, sort.Int) ∷ []); pre = (record { opened = []; facts = ([]); locals = []; items = ((Pred (record { name = name_A; args = ((Var 0 sort.Int) ∷ []) })) ∷ []) }); post = (record { opened = []; facts = ([]); locals = []; items = ((Pred (record { name = name_A; args = ((Of2 binary.Add (Var 0 sort.Int) (Number (pos 1))) ∷ []) })) ∷ []) }) }) (s.Then 1 (s.Call ((Named name_n) ∷ []) ([]) ([]) ([])) s.NoBlock (s.Then 2 (s.Return ((Of2 binary.Add (Named name_n) (Number (pos 1))) ∷ []) ([]) ([])) s.NoBlock s.End)) ≡ (RefusedAt 2 9 1)
unfolding computing
subsumptions_36 = refl

subsumptions_37 : sub_verdict (record { predicates = ((record { name = name_A; args = (sort.Int ∷ []); cases = ((record { opened = []; facts = ((Rel relation.Le (Number (pos 0)) (Var 0 sort.Int)) ∷ []); locals = []; items = ([]) }) ∷ []) }) ∷ []); specs = ((record { is_void = true; name = name_f; params = ([]); vars = ((name_n, sort.Int) ∷ []); pre = (record { opened = []; facts = ([]); locals = []; items = ((Pred (record { name = name_A; args = ((Var 0 sort.Int) ∷ []) })) ∷ []) }); post = (record { opened = (sort.Int ∷ []); facts = ([]); locals = []; items = ((Pred (record { name = name_A; args = ((Var 2 sort.Int) ∷ []) })) ∷ []) }) }) ∷ []) }) (record { is_void = true; name = name_f; params = ([]); vars = ((name_n, sort.Int) ∷ []); pre = (record { opened = []; facts = ([]); locals = []; items = ((Pred (record { name = name_A; args = ((Var 0 sort.Int) ∷ []) })) ∷ []) }); post = (record { opened = (sort.Int ∷ []); facts = ([]); locals = []; items = ((Pred (record { name = name_A; args = ((Var 2 sort.Int) ∷ []) })) ∷ []) }) }) (record { is_void = true; name = name_f; params = ([]); vars = ((name_n, sort.Int) ∷ []); pre = (record { opened = []; facts = ([]); locals = []; items = ((Pred (record { name = name_A; args = ((Var 0 sort.Int) ∷ []) })) ∷ []) }); post = (record { opened = (sort.Int ∷ []); facts = ([]); locals = []; items = ((Pred (record { name = name_A; args = ((Var 2 sort.Int) ∷ []) })) ∷ []) }) }) (s.Then 1 (s.Call ((Named name_n) ∷ []) ([]) ([]) ([])) s.NoBlock (s.Then 2 (s.Return ([]) ([]) ([])) s.NoBlock s.End)) ≡ (RefusedAt 1 13 6)
unfolding computing
subsumptions_37 = refl

subsumptions_38 : sub_verdict (record { predicates = ((record { name = name_A; args = (sort.Int ∷ []); cases = ((record { opened = []; facts = ((Rel relation.Le (Number (pos 0)) (Var 0 sort.Int)) ∷ []); locals = []; items = ([]) }) ∷ []) }) ∷ []); specs = ((record { is_void = true; name = name_f; params = ([]); vars = ((name_n, sort.Int) ∷ []); pre = (record { opened = []; facts = ([]); locals = []; items = ((Pred (record { name = name_A; args = ((Var 0 sort.Int) ∷ []) })) ∷ []) }); post = (record { opened = []; facts = ([]); locals = []; items = ((Pred (record { name = name_A; args = ((Of2 binary.Add (Var 0 sort.Int) (Number (pos 1))) ∷ []) })) ∷ []) }) }) ∷ []) }) (record { is_void = true; name = name_f; params = ([]); vars = ((name_n, sort.Int) ∷ []); pre = (record { opened = []; facts = ([]); locals = []; items = ((Pred (record { name = name_A; args = ((Var 0 sort.Int) ∷ []) })) ∷ []) }); post = (record { opened = []; facts = ([]); locals = []; items = ((Pred (record { name = name_A; args = ((Of2 binary.Add (Var 0 sort.Int) (Number (pos 1))) ∷ []) })) ∷ []) }) }) (record { is_void = true; name = name_f; params = ([]); vars = ((name_n, sort.Int) ∷ []); pre = (record { opened = []; facts = ([]); locals = []; items = ((Pred (record { name = name_A; args = ((Var 0 sort.Int) ∷ []) })) ∷ []) }); post = (record { opened = (sort.Int ∷ []); facts = ([]); locals = []; items = ((Pred (record { name = name_A; args = ((Var 2 sort.Int) ∷ []) })) ∷ []) }) }) (s.Then 1 (s.Call ((Named name_n) ∷ []) ([]) ([]) ([])) s.NoBlock (s.Then 2 (s.Return ([]) ([]) ([])) s.NoBlock s.End)) ≡ (RefusedAt 2 9 1)
unfolding computing
subsumptions_38 = refl

subsumptions_39 : sub_verdict (record { predicates = ((record { name = name_A; args = (sort.Int ∷ []); cases = ((record { opened = []; facts = ((Rel relation.Le (Number (pos 0)) (Var 0 sort.Int)) ∷ []); locals = []; items = ([]) }) ∷ []) }) ∷ []); specs = ((record { is_void = true; name = name_f; params = ([]); vars = ((name_n, sort.Int) ∷ []); pre = (record { opened = []; facts = ([]); locals = []; items = ((Pred (record { name = name_A; args = ((Var 0 sort.Int) ∷ []) })) ∷ []) }); post = (record { opened = (sort.Int ∷ []); facts = ([]); locals = []; items = ((Pred (record { name = name_A; args = ((Var 2 sort.Int) ∷ []) })) ∷ []) }) }) ∷ []) }) (record { is_void = true; name = name_f; params = ([]); vars = ((name_n, sort.Int) ∷ []); pre = (record { opened = []; facts = ([]); locals = []; items = ((Pred (record { name = name_A; args = ((Var 0 sort.Int) ∷ []) })) ∷ []) }); post = (record { opened = (sort.Int ∷ []); facts = ([]); locals = []; items = ((Pred (record { name = name_A; args = ((Var 2 sort.Int) ∷ []) })) ∷ []) }) }) (record { is_void = true; name = name_f; params = ([]); vars = ((name_n, sort.Int) ∷ []); pre = (record { opened = []; facts = ([]); locals = []; items = ((Pred (record { name = name_A; args = ((Var 0 sort.Int) ∷ []) })) ∷ []) }); post = (record { opened = []; facts = ([]); locals = []; items = ((Pred (record { name = name_A; args = ((Of2 binary.Add (Var 0 sort.Int) (Number (pos 1))) ∷ []) })) ∷ []) }) }) (s.Then 1 (s.Call ((Named name_n) ∷ []) ([]) ([]) ([])) s.NoBlock (s.Then 2 (s.Return ([]) ([]) ([])) s.NoBlock s.End)) ≡ (RefusedAt 1 13 6)
unfolding computing
subsumptions_39 = refl

subsumptions_40 : sub_verdict (record { predicates = ((record { name = name_A; args = (sort.Int ∷ []); cases = ((record { opened = []; facts = ((Rel relation.Le (Number (pos 0)) (Var 0 sort.Int)) ∷ []); locals = []; items = ([]) }) ∷ []) }) ∷ []); specs = ((record { is_void = true; name = name_f; params = ([]); vars = ((name_n, sort.Int) ∷ []); pre = (record { opened = []; facts = ([]); locals = []; items = ((Pred (record { name = name_A; args = ((Var 0 sort.Int) ∷ []) })) ∷ []) }); post = (record { opened = []; facts = ([]); locals = []; items = ((Pred (record { name = name_A; args = ((Of2 binary.Add (Var 0 sort.Int) (Number (pos 1))) ∷ []) })) ∷ []) }) }) ∷ []) }) (record { is_void = true; name = name_f; params = ([]); vars = ((name_n, sort.Int) ∷ []); pre = (record { opened = []; facts = ([]); locals = []; items = ((Pred (record { name = name_A; args = ((Var 0 sort.Int) ∷ []) })) ∷ []) }); post = (record { opened = []; facts = ([]); locals = []; items = ((Pred (record { name = name_A; args = ((Of2 binary.Add (Var 0 sort.Int) (Number (pos 1))) ∷ []) })) ∷ []) }) }) (record { is_void = true; name = name_f; params = ([]); vars = ((name_n, sort.Int) ∷ []); pre = (record { opened = []; facts = ([]); locals = []; items = ((Pred (record { name = name_A; args = ((Var 0 sort.Int) ∷ []) })) ∷ []) }); post = (record { opened = []; facts = ([]); locals = []; items = ((Pred (record { name = name_A; args = ((Of2 binary.Add (Var 0 sort.Int) (Number (pos 1))) ∷ []) })) ∷ []) }) }) (s.Then 1 (s.Call ((Named name_n) ∷ []) ([]) ([]) ([])) s.NoBlock (s.Then 2 (s.Return ([]) ([]) ([])) s.NoBlock s.End)) ≡ Accepted
unfolding computing
subsumptions_40 = refl

subsumptions_41 : sub_verdict (record { predicates = ((record { name = name_A; args = (sort.Int ∷ []); cases = ((record { opened = []; facts = ((Rel relation.Le (Number (pos 0)) (Var 0 sort.Int)) ∷ []); locals = []; items = ([]) }) ∷ []) }) ∷ []); specs = ((record { is_void = true; name = name_f; params = ([]); vars = ((name_n, sort.Int) ∷ []); pre = (record { opened = []; facts = ([]); locals = []; items = ((Pred (record { name = name_A; args = ((Var 0 sort.Int) ∷ []) })) ∷ []) }); post = (record { opened = (sort.Int ∷ []); facts = ([]); locals = []; items = ((Pred (record { name = name_A; args = ((Var 2 sort.Int) ∷ []) })) ∷ []) }) }) ∷ []) }) (record { is_void = true; name = name_f; params = ([]); vars = ((name_n, sort.Int) ∷ []); pre = (record { opened = []; facts = ([]); locals = []; items = ((Pred (record { name = name_A; args = ((Var 0 sort.Int) ∷ []) })) ∷ []) }); post = (record { opened = (sort.Int ∷ []); facts = ([]); locals = []; items = ((Pred (record { name = name_A; args = ((Var 2 sort.Int) ∷ []) })) ∷ []) }) }) (record { is_void = true; name = name_f; params = ([]); vars = ((name_n, sort.Int) ∷ []); pre = (record { opened = []; facts = ([]); locals = []; items = ((Pred (record { name = name_A; args = ((Var 0 sort.Int) ∷ []) })) ∷ []) }); post = (record { opened = (sort.Int ∷ []); facts = ([]); locals = []; items = ((Pred (record { name = name_A; args = ((Var 2 sort.Int) ∷ []) })) ∷ []) }) }) (s.Then 1 (s.Call ((Of2 binary.Add (Named name_n) (Number (pos 1))) ∷ []) ([]) ([]) ([])) s.NoBlock (s.Then 2 (s.Return ((Named name_n) ∷ []) ([]) ([])) s.NoBlock s.End)) ≡ (RefusedAt 1 13 5)
unfolding computing
subsumptions_41 = refl

subsumptions_42 : sub_verdict (record { predicates = ((record { name = name_A; args = (sort.Int ∷ []); cases = ((record { opened = []; facts = ((Rel relation.Le (Number (pos 0)) (Var 0 sort.Int)) ∷ []); locals = []; items = ([]) }) ∷ []) }) ∷ []); specs = ((record { is_void = true; name = name_f; params = ([]); vars = ((name_n, sort.Int) ∷ []); pre = (record { opened = []; facts = ([]); locals = []; items = ((Pred (record { name = name_A; args = ((Var 0 sort.Int) ∷ []) })) ∷ []) }); post = (record { opened = []; facts = ([]); locals = []; items = ((Pred (record { name = name_A; args = ((Of2 binary.Add (Var 0 sort.Int) (Number (pos 1))) ∷ []) })) ∷ []) }) }) ∷ []) }) (record { is_void = true; name = name_f; params = ([]); vars = ((name_n, sort.Int) ∷ []); pre = (record { opened = []; facts = ([]); locals = []; items = ((Pred (record { name = name_A; args = ((Var 0 sort.Int) ∷ []) })) ∷ []) }); post = (record { opened = []; facts = ([]); locals = []; items = ((Pred (record { name = name_A; args = ((Of2 binary.Add (Var 0 sort.Int) (Number (pos 1))) ∷ []) })) ∷ []) }) }) (record { is_void = true; name = name_f; params = ([]); vars = ((name_n, sort.Int) ∷ []); pre = (record { opened = []; facts = ([]); locals = []; items = ((Pred (record { name = name_A; args = ((Var 0 sort.Int) ∷ []) })) ∷ []) }); post = (record { opened = (sort.Int ∷ []); facts = ([]); locals = []; items = ((Pred (record { name = name_A; args = ((Var 2 sort.Int) ∷ []) })) ∷ []) }) }) (s.Then 1 (s.Call ((Of2 binary.Add (Named name_n) (Number (pos 1))) ∷ []) ([]) ([]) ([])) s.NoBlock (s.Then 2 (s.Return ((Named name_n) ∷ []) ([]) ([])) s.NoBlock s.End)) ≡ (RefusedAt 1 13 5)
unfolding computing
subsumptions_42 = refl

subsumptions_43 : sub_verdict (record { predicates = ((record { name = name_A; args = (sort.Int ∷ []); cases = ((record { opened = []; facts = ((Rel relation.Le (Number (pos 0)) (Var 0 sort.Int)) ∷ []); locals = []; items = ([]) }) ∷ []) }) ∷ []); specs = ((record { is_void = true; name = name_f; params = ([]); vars = ((name_n, sort.Int) ∷ []); pre = (record { opened = []; facts = ([]); locals = []; items = ((Pred (record { name = name_A; args = ((Var 0 sort.Int) ∷ []) })) ∷ []) }); post = (record { opened = (sort.Int ∷ []); facts = ([]); locals = []; items = ((Pred (record { name = name_A; args = ((Var 2 sort.Int) ∷ []) })) ∷ []) }) }) ∷ []) }) (record { is_void = true; name = name_f; params = ([]); vars = ((name_n, sort.Int) ∷ []); pre = (record { opened = []; facts = ([]); locals = []; items = ((Pred (record { name = name_A; args = ((Var 0 sort.Int) ∷ []) })) ∷ []) }); post = (record { opened = (sort.Int ∷ []); facts = ([]); locals = []; items = ((Pred (record { name = name_A; args = ((Var 2 sort.Int) ∷ []) })) ∷ []) }) }) (record { is_void = true; name = name_f; params = ([]); vars = ((name_n, sort.Int) ∷ []); pre = (record { opened = []; facts = ([]); locals = []; items = ((Pred (record { name = name_A; args = ((Var 0 sort.Int) ∷ []) })) ∷ []) }); post = (record { opened = []; facts = ([]); locals = []; items = ((Pred (record { name = name_A; args = ((Of2 binary.Add (Var 0 sort.Int) (Number (pos 1))) ∷ []) })) ∷ []) }) }) (s.Then 1 (s.Call ((Of2 binary.Add (Named name_n) (Number (pos 1))) ∷ []) ([]) ([]) ([])) s.NoBlock (s.Then 2 (s.Return ((Named name_n) ∷ []) ([]) ([])) s.NoBlock s.End)) ≡ (RefusedAt 1 13 5)
unfolding computing
subsumptions_43 = refl

subsumptions_44 : sub_verdict (record { predicates = ((record { name = name_A; args = (sort.Int ∷ []); cases = ((record { opened = []; facts = ((Rel relation.Le (Number (pos 0)) (Var 0 sort.Int)) ∷ []); locals = []; items = ([]) }) ∷ []) }) ∷ []); specs = ((record { is_void = true; name = name_f; params = ([]); vars = ((name_n, sort.Int) ∷ []); pre = (record { opened = []; facts = ([]); locals = []; items = ((Pred (record { name = name_A; args = ((Var 0 sort.Int) ∷ []) })) ∷ []) }); post = (record { opened = []; facts = ([]); locals = []; items = ((Pred (record { name = name_A; args = ((Of2 binary.Add (Var 0 sort.Int) (Number (pos 1))) ∷ []) })) ∷ []) }) }) ∷ []) }) (record { is_void = true; name = name_f; params = ([]); vars = ((name_n, sort.Int) ∷ []); pre = (record { opened = []; facts = ([]); locals = []; items = ((Pred (record { name = name_A; args = ((Var 0 sort.Int) ∷ []) })) ∷ []) }); post = (record { opened = []; facts = ([]); locals = []; items = ((Pred (record { name = name_A; args = ((Of2 binary.Add (Var 0 sort.Int) (Number (pos 1))) ∷ []) })) ∷ []) }) }) (record { is_void = true; name = name_f; params = ([]); vars = ((name_n, sort.Int) ∷ []); pre = (record { opened = []; facts = ([]); locals = []; items = ((Pred (record { name = name_A; args = ((Var 0 sort.Int) ∷ []) })) ∷ []) }); post = (record { opened = []; facts = ([]); locals = []; items = ((Pred (record { name = name_A; args = ((Of2 binary.Add (Var 0 sort.Int) (Number (pos 1))) ∷ []) })) ∷ []) }) }) (s.Then 1 (s.Call ((Of2 binary.Add (Named name_n) (Number (pos 1))) ∷ []) ([]) ([]) ([])) s.NoBlock (s.Then 2 (s.Return ((Named name_n) ∷ []) ([]) ([])) s.NoBlock s.End)) ≡ (RefusedAt 1 13 5)
unfolding computing
subsumptions_44 = refl

subsumptions_45 : sub_verdict (record { predicates = ((record { name = name_A; args = (sort.Int ∷ []); cases = ((record { opened = []; facts = ((Rel relation.Le (Number (pos 0)) (Var 0 sort.Int)) ∷ []); locals = []; items = ([]) }) ∷ []) }) ∷ []); specs = ((record { is_void = true; name = name_f; params = ([]); vars = ((name_n, sort.Int) ∷ []); pre = (record { opened = []; facts = ([]); locals = []; items = ((Pred (record { name = name_A; args = ((Var 0 sort.Int) ∷ []) })) ∷ []) }); post = (record { opened = (sort.Int ∷ []); facts = ([]); locals = []; items = ((Pred (record { name = name_A; args = ((Var 2 sort.Int) ∷ []) })) ∷ []) }) }) ∷ []) }) (record { is_void = true; name = name_f; params = ([]); vars = ((name_n, sort.Int) ∷ []); pre = (record { opened = []; facts = ([]); locals = []; items = ((Pred (record { name = name_A; args = ((Var 0 sort.Int) ∷ []) })) ∷ []) }); post = (record { opened = (sort.Int ∷ []); facts = ([]); locals = []; items = ((Pred (record { name = name_A; args = ((Var 2 sort.Int) ∷ []) })) ∷ []) }) }) (record { is_void = true; name = name_f; params = ([]); vars = ((name_n, sort.Int) ∷ []); pre = (record { opened = []; facts = ([]); locals = []; items = ((Pred (record { name = name_A; args = ((Var 0 sort.Int) ∷ []) })) ∷ []) }); post = (record { opened = (sort.Int ∷ []); facts = ([]); locals = []; items = ((Pred (record { name = name_A; args = ((Var 2 sort.Int) ∷ []) })) ∷ []) }) }) (s.Then 1 (s.Call ((Named name_n) ∷ []) ([]) ([]) (name_m ∷ [])) s.NoBlock (s.Then 2 (s.Return ((Of2 binary.Add (Named name_n) (Number (pos 1))) ∷ []) ([]) ([])) s.NoBlock s.End)) ≡ (RefusedAt 2 9 5)
unfolding computing
subsumptions_45 = refl

subsumptions_46 : sub_verdict (record { predicates = ((record { name = name_A; args = (sort.Int ∷ []); cases = ((record { opened = []; facts = ((Rel relation.Le (Number (pos 0)) (Var 0 sort.Int)) ∷ []); locals = []; items = ([]) }) ∷ []) }) ∷ []); specs = ((record { is_void = true; name = name_f; params = ([]); vars = ((name_n, sort.Int) ∷ []); pre = (record { opened = []; facts = ([]); locals = []; items = ((Pred (record { name = name_A; args = ((Var 0 sort.Int) ∷ []) })) ∷ []) }); post = (record { opened = []; facts = ([]); locals = []; items = ((Pred (record { name = name_A; args = ((Of2 binary.Add (Var 0 sort.Int) (Number (pos 1))) ∷ []) })) ∷ []) }) }) ∷ []) }) (record { is_void = true; name = name_f; params = ([]); vars = ((name_n, sort.Int) ∷ []); pre = (record { opened = []; facts = ([]); locals = []; items = ((Pred (record { name = name_A; args = ((Var 0 sort.Int) ∷ []) })) ∷ []) }); post = (record { opened = []; facts = ([]); locals = []; items = ((Pred (record { name = name_A; args = ((Of2 binary.Add (Var 0 sort.Int) (Number (pos 1))) ∷ []) })) ∷ []) }) }) (record { is_void = true; name = name_f; params = ([]); vars = ((name_n, sort.Int) ∷ []); pre = (record { opened = []; facts = ([]); locals = []; items = ((Pred (record { name = name_A; args = ((Var 0 sort.Int) ∷ []) })) ∷ []) }); post = (record { opened = (sort.Int ∷ []); facts = ([]); locals = []; items = ((Pred (record { name = name_A; args = ((Var 2 sort.Int) ∷ []) })) ∷ []) }) }) (s.Then 1 (s.Call ((Named name_n) ∷ []) ([]) ([]) (name_m ∷ [])) s.NoBlock (s.Then 2 (s.Return ((Of2 binary.Add (Named name_n) (Number (pos 1))) ∷ []) ([]) ([])) s.NoBlock s.End)) ≡ (RefusedAt 1 13 6)
unfolding computing
subsumptions_46 = refl

subsumptions_47 : sub_verdict (record { predicates = ((record { name = name_A; args = (sort.Int ∷ []); cases = ((record { opened = []; facts = ((Rel relation.Le (Number (pos 0)) (Var 0 sort.Int)) ∷ []); locals = []; items = ([]) }) ∷ []) }) ∷ []); specs = ((record { is_void = true; name = name_f; params = ([]); vars = ((name_n, sort.Int) ∷ []); pre = (record { opened = []; facts = ([]); locals = []; items = ((Pred (record { name = name_A; args = ((Var 0 sort.Int) ∷ []) })) ∷ []) }); post = (record { opened = (sort.Int ∷ []); facts = ([]); locals = []; items = ((Pred (record { name = name_A; args = ((Var 2 sort.Int) ∷ []) })) ∷ []) }) }) ∷ []) }) (record { is_void = true; name = name_f; params = ([]); vars = ((name_n, sort.Int) ∷ []); pre = (record { opened = []; facts = ([]); locals = []; items = ((Pred (record { name = name_A; args = ((Var 0 sort.Int) ∷ []) })) ∷ []) }); post = (record { opened = (sort.Int ∷ []); facts = ([]); locals = []; items = ((Pred (record { name = name_A; args = ((Var 2 sort.Int) ∷ []) })) ∷ []) }) }) (record { is_void = true; name = name_f; params = ([]); vars = ((name_n, sort.Int) ∷ []); pre = (record { opened = []; facts = ([]); locals = []; items = ((Pred (record { name = name_A; args = ((Var 0 sort.Int) ∷ []) })) ∷ []) }); post = (record { opened = []; facts = ([]); locals = []; items = ((Pred (record { name = name_A; args = ((Of2 binary.Add (Var 0 sort.Int) (Number (pos 1))) ∷ []) })) ∷ []) }) }) (s.Then 1 (s.Call ((Named name_n) ∷ []) ([]) ([]) (name_m ∷ [])) s.NoBlock (s.Then 2 (s.Return ((Of2 binary.Add (Named name_n) (Number (pos 1))) ∷ []) ([]) ([])) s.NoBlock s.End)) ≡ (RefusedAt 2 9 1)
unfolding computing
subsumptions_47 = refl

subsumptions_48 : sub_verdict (record { predicates = ((record { name = name_A; args = (sort.Int ∷ []); cases = ((record { opened = []; facts = ((Rel relation.Le (Number (pos 0)) (Var 0 sort.Int)) ∷ []); locals = []; items = ([]) }) ∷ []) }) ∷ []); specs = ((record { is_void = true; name = name_f; params = ([]); vars = ((name_n, sort.Int) ∷ []); pre = (record { opened = []; facts = ([]); locals = []; items = ((Pred (record { name = name_A; args = ((Var 0 sort.Int) ∷ []) })) ∷ []) }); post = (record { opened = []; facts = ([]); locals = []; items = ((Pred (record { name = name_A; args = ((Of2 binary.Add (Var 0 sort.Int) (Number (pos 1))) ∷ []) })) ∷ []) }) }) ∷ []) }) (record { is_void = true; name = name_f; params = ([]); vars = ((name_n, sort.Int) ∷ []); pre = (record { opened = []; facts = ([]); locals = []; items = ((Pred (record { name = name_A; args = ((Var 0 sort.Int) ∷ []) })) ∷ []) }); post = (record { opened = []; facts = ([]); locals = []; items = ((Pred (record { name = name_A; args = ((Of2 binary.Add (Var 0 sort.Int) (Number (pos 1))) ∷ []) })) ∷ []) }) }) (record { is_void = true; name = name_f; params = ([]); vars = ((name_n, sort.Int) ∷ []); pre = (record { opened = []; facts = ([]); locals = []; items = ((Pred (record { name = name_A; args = ((Var 0 sort.Int) ∷ []) })) ∷ []) }); post = (record { opened = []; facts = ([]); locals = []; items = ((Pred (record { name = name_A; args = ((Of2 binary.Add (Var 0 sort.Int) (Number (pos 1))) ∷ []) })) ∷ []) }) }) (s.Then 1 (s.Call ((Named name_n) ∷ []) ([]) ([]) (name_m ∷ [])) s.NoBlock (s.Then 2 (s.Return ((Of2 binary.Add (Named name_n) (Number (pos 1))) ∷ []) ([]) ([])) s.NoBlock s.End)) ≡ (RefusedAt 1 13 6)
unfolding computing
subsumptions_48 = refl

subsumptions_49 : sub_verdict (record { predicates = ((record { name = name_A; args = (sort.Int ∷ []); cases = ((record { opened = []; facts = ((Rel relation.Le (Number (pos 0)) (Var 0 sort.Int)) ∷ []); locals = []; items = ([]) }) ∷ []) }) ∷ []); specs = ((record { is_void = true; name = name_f; params = ([]); vars = []; pre = (record { opened = []; facts = ([]); locals = []; items = ([]) }); post = (record { opened = []; facts = ((Rel relation.Eq (Var 0 sort.Val) Undef) ∷ []); locals = []; items = ([]) }) }) ∷ []) }) (record { is_void = true; name = name_f; params = ([]); vars = []; pre = (record { opened = []; facts = ([]); locals = []; items = ([]) }); post = (record { opened = []; facts = ((Rel relation.Eq (Var 0 sort.Val) Undef) ∷ []); locals = []; items = ([]) }) }) (record { is_void = true; name = name_f; params = ([]); vars = []; pre = (record { opened = []; facts = ([]); locals = []; items = ([]) }); post = (record { opened = []; facts = ((Rel relation.Eq (Var 0 sort.Val) Undef) ∷ []); locals = []; items = ([]) }) }) (s.Then 1 (s.Call ([]) ([]) ([]) ([])) s.NoBlock (s.Then 2 (s.Return ([]) ([]) ([])) s.NoBlock s.End)) ≡ Accepted
unfolding computing
subsumptions_49 = refl

subsumptions_50 : sub_verdict (record { predicates = ((record { name = name_A; args = (sort.Int ∷ []); cases = ((record { opened = []; facts = ((Rel relation.Le (Number (pos 0)) (Var 0 sort.Int)) ∷ []); locals = []; items = ([]) }) ∷ []) }) ∷ []); specs = ((record { is_void = true; name = name_f; params = ([]); vars = []; pre = (record { opened = []; facts = ([]); locals = []; items = ([]) }); post = (record { opened = []; facts = ((Rel relation.Eq (Var 0 sort.Val) Undef) ∷ []); locals = []; items = ([]) }) }) ∷ []) }) (record { is_void = true; name = name_f; params = ([]); vars = []; pre = (record { opened = []; facts = ([]); locals = []; items = ([]) }); post = (record { opened = []; facts = ((Rel relation.Eq (Var 0 sort.Val) Undef) ∷ []); locals = []; items = ([]) }) }) (record { is_void = true; name = name_f; params = ([]); vars = []; pre = (record { opened = []; facts = ([]); locals = []; items = ([]) }); post = (record { opened = []; facts = ((Rel relation.Eq (Var 0 sort.Val) Undef) ∷ []); locals = []; items = ([]) }) }) (s.Then 1 (s.Call ([]) ([]) ([]) (name_z ∷ [])) s.NoBlock (s.Then 2 (s.Return ([]) ([]) ([])) s.NoBlock s.End)) ≡ (RefusedAt 1 13 6)
unfolding computing
subsumptions_50 = refl

subsumptions_51 : sub_verdict (record { predicates = ((record { name = name_A; args = (sort.Int ∷ []); cases = ((record { opened = []; facts = ((Rel relation.Le (Number (pos 0)) (Var 0 sort.Int)) ∷ []); locals = []; items = ([]) }) ∷ []) }) ∷ []); specs = ((record { is_void = true; name = name_f; params = ([]); vars = []; pre = (record { opened = []; facts = ([]); locals = []; items = ([]) }); post = (record { opened = []; facts = ((Rel relation.Eq (Var 0 sort.Val) Undef) ∷ []); locals = []; items = ([]) }) }) ∷ []) }) (record { is_void = true; name = name_f; params = ([]); vars = []; pre = (record { opened = []; facts = ([]); locals = []; items = ([]) }); post = (record { opened = []; facts = ((Rel relation.Eq (Var 0 sort.Val) Undef) ∷ []); locals = []; items = ([]) }) }) (record { is_void = true; name = name_f; params = ([]); vars = []; pre = (record { opened = []; facts = ([]); locals = []; items = ([]) }); post = (record { opened = []; facts = ((Rel relation.Eq (Var 0 sort.Val) Undef) ∷ []); locals = []; items = ([]) }) }) (s.Then 1 (s.Call ([]) ([]) ([]) (name_z ∷ [])) s.NoBlock (s.Then 2 (s.Subst name_z) s.NoBlock (s.Then 3 (s.Return ([]) ([]) ([])) s.NoBlock s.End))) ≡ (RefusedAt 1 13 6)
unfolding computing
subsumptions_51 = refl

subsumptions_52 : sub_verdict (record { predicates = ((record { name = name_A; args = (sort.Int ∷ []); cases = ((record { opened = []; facts = ((Rel relation.Le (Number (pos 0)) (Var 0 sort.Int)) ∷ []); locals = []; items = ([]) }) ∷ []) }) ∷ []); specs = ((record { is_void = false; name = name_f; params = ([]); vars = []; pre = (record { opened = []; facts = ([]); locals = []; items = ([]) }); post = (record { opened = []; facts = ((Rel relation.Eq (Var 0 sort.Val) Undef) ∷ []); locals = []; items = ([]) }) }) ∷ []) }) (record { is_void = false; name = name_f; params = ([]); vars = []; pre = (record { opened = []; facts = ([]); locals = []; items = ([]) }); post = (record { opened = []; facts = ((Rel relation.Eq (Var 0 sort.Val) Undef) ∷ []); locals = []; items = ([]) }) }) (record { is_void = false; name = name_f; params = ([]); vars = []; pre = (record { opened = []; facts = ([]); locals = []; items = ([]) }); post = (record { opened = []; facts = ((Rel relation.Eq (Var 0 sort.Val) Undef) ∷ []); locals = []; items = ([]) }) }) (s.Then 1 (s.Call ([]) ([]) ([]) ([])) s.NoBlock (s.Then 2 (s.Return ([]) ([]) ([])) s.NoBlock s.End)) ≡ (RefusedAt 1 13 6)
unfolding computing
subsumptions_52 = refl

subsumptions_53 : sub_verdict (record { predicates = ((record { name = name_A; args = (sort.Int ∷ []); cases = ((record { opened = []; facts = ((Rel relation.Le (Number (pos 0)) (Var 0 sort.Int)) ∷ []); locals = []; items = ([]) }) ∷ []) }) ∷ []); specs = ((record { is_void = false; name = name_f; params = ([]); vars = []; pre = (record { opened = []; facts = ([]); locals = []; items = ([]) }); post = (record { opened = []; facts = ((Rel relation.Eq (Var 0 sort.Val) Undef) ∷ []); locals = []; items = ([]) }) }) ∷ []) }) (record { is_void = false; name = name_f; params = ([]); vars = []; pre = (record { opened = []; facts = ([]); locals = []; items = ([]) }); post = (record { opened = []; facts = ((Rel relation.Eq (Var 0 sort.Val) Undef) ∷ []); locals = []; items = ([]) }) }) (record { is_void = false; name = name_f; params = ([]); vars = []; pre = (record { opened = []; facts = ([]); locals = []; items = ([]) }); post = (record { opened = []; facts = ((Rel relation.Eq (Var 0 sort.Val) Undef) ∷ []); locals = []; items = ([]) }) }) (s.Then 1 (s.Call ([]) ([]) ([]) (name_z ∷ [])) s.NoBlock (s.Then 2 (s.Return ([]) ([]) ([])) s.NoBlock s.End)) ≡ Accepted
unfolding computing
subsumptions_53 = refl

subsumptions_54 : sub_verdict (record { predicates = ((record { name = name_A; args = (sort.Int ∷ []); cases = ((record { opened = []; facts = ((Rel relation.Le (Number (pos 0)) (Var 0 sort.Int)) ∷ []); locals = []; items = ([]) }) ∷ []) }) ∷ []); specs = ((record { is_void = false; name = name_f; params = ([]); vars = []; pre = (record { opened = []; facts = ([]); locals = []; items = ([]) }); post = (record { opened = []; facts = ((Rel relation.Eq (Var 0 sort.Val) Undef) ∷ []); locals = []; items = ([]) }) }) ∷ []) }) (record { is_void = false; name = name_f; params = ([]); vars = []; pre = (record { opened = []; facts = ([]); locals = []; items = ([]) }); post = (record { opened = []; facts = ((Rel relation.Eq (Var 0 sort.Val) Undef) ∷ []); locals = []; items = ([]) }) }) (record { is_void = false; name = name_f; params = ([]); vars = []; pre = (record { opened = []; facts = ([]); locals = []; items = ([]) }); post = (record { opened = []; facts = ((Rel relation.Eq (Var 0 sort.Val) Undef) ∷ []); locals = []; items = ([]) }) }) (s.Then 1 (s.Call ([]) ([]) ([]) (name_z ∷ [])) s.NoBlock (s.Then 2 (s.Subst name_z) s.NoBlock (s.Then 3 (s.Return ([]) ([]) ([])) s.NoBlock s.End))) ≡ Accepted
unfolding computing
subsumptions_54 = refl
