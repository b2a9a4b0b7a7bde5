-- States at the limits of nodes and height.
use Rattle.std.specs.Prelude.{◌≡◌, refl, pos, [], ◌∷◌, true, false, Some, None}
use Rattle.vd_terms.specs.Terms.{Number, Var, Global, Nil, Of, Of2}
use Rattle.vd_terms.specs.declared.assertion.FactOf.TheVariants.{Rel}
use Rattle.vd_terms.specs.declared.assertion.ItemOf.TheVariants.{Data}
use Rattle.vd_rules.specs.Computing.{computing}
use Rattle.vd_rules.specs.Verdicts.{RefusedAt, body_verdict, init_verdict}
use Rattle.vd_terms.specs.declared.operation.Unary.TheVariants as unary
use Rattle.vd_terms.specs.declared.operation.Binary.TheVariants as binary
use Rattle.vd_logic.specs.declared.term.Sort.TheVariants as sort
use Rattle.vd_logic.specs.declared.assertion.Rel.TheVariants as relation
use Rattle.vd_logic.specs.declared.step.Occurrence.TheVariants as occurrence
use Rattle.vd_steps.specs.Code as c
use Rattle.vd_steps.specs.Script as s
use Rattle.vd_examples.specs.Names.{name_a, name_b, name_c, name_f, name_l, name_m, name_main, name_s, name_v, name_w, name_y, name_z}

limits_1 : body_verdict (record { predicates = ([]); specs = ((record { is_void = true; name = name_f; params = ([]); vars = ((name_a, sort.Int) ∷ (name_b, sort.Int) ∷ (name_s, sort.Int) ∷ (name_c, sort.Int) ∷ (name_v, sort.Val) ∷ (name_w, sort.Val) ∷ (name_y, sort.Val) ∷ (name_l, sort.List) ∷ (name_m, sort.List) ∷ []); pre = (record { opened = []; facts = ((Rel relation.Eq (Var 7 sort.List) (Of2 binary.App (Of2 binary.Cons (Var 6 sort.Val) (Of2 binary.Cons (Var 6 sort.Val) (Of2 binary.Cons (Var 6 sort.Val) (Of2 binary.Cons (Var 6 sort.Val) (Of2 binary.Cons (Var 6 sort.Val) (Of2 binary.Cons (Var 6 sort.Val) (Of2 binary.Cons (Var 6 sort.Val) (Of2 binary.Cons (Var 6 sort.Val) (Of2 binary.Cons (Var 6 sort.Val) (Of2 binary.Cons (Var 6 sort.Val) (Of2 binary.Cons (Var 6 sort.Val) (Of2 binary.Cons (Var 6 sort.Val) (Of2 binary.Cons (Var 6 sort.Val) (Of2 binary.Cons (Var 6 sort.Val) (Of2 binary.Cons (Var 6 sort.Val) (Of2 binary.Cons (Var 6 sort.Val) (Of2 binary.Cons (Var 6 sort.Val) (Of2 binary.Cons (Var 6 sort.Val) (Of2 binary.Cons (Var 6 sort.Val) (Of2 binary.Cons (Var 6 sort.Val) (Of2 binary.Cons (Var 6 sort.Val) (Of2 binary.Cons (Var 6 sort.Val) (Of2 binary.Cons (Var 6 sort.Val) (Of2 binary.Cons (Var 6 sort.Val) (Of2 binary.Cons (Var 6 sort.Val) (Of2 binary.Cons (Var 6 sort.Val) (Of2 binary.Cons (Var 6 sort.Val) (Of2 binary.Cons (Var 6 sort.Val) (Of2 binary.Cons (Var 6 sort.Val) (Of2 binary.Cons (Var 6 sort.Val) (Of2 binary.Cons (Var 6 sort.Val) (Of2 binary.Cons (Var 6 sort.Val) (Of2 binary.Cons (Var 6 sort.Val) (Of2 binary.Cons (Var 6 sort.Val) (Of2 binary.Cons (Var 6 sort.Val) (Of2 binary.Cons (Var 6 sort.Val) (Of2 binary.Cons (Var 6 sort.Val) (Of2 binary.Cons (Var 6 sort.Val) (Of2 binary.Cons (Var 6 sort.Val) (Of2 binary.Cons (Var 6 sort.Val) (Of2 binary.Cons (Var 6 sort.Val) (Of2 binary.Cons (Var 6 sort.Val) (Of2 binary.Cons (Var 6 sort.Val) (Of2 binary.Cons (Var 6 sort.Val) (Of2 binary.Cons (Var 6 sort.Val) (Of2 binary.Cons (Var 6 sort.Val) (Of2 binary.Cons (Var 6 sort.Val) (Of2 binary.Cons (Var 6 sort.Val) (Of2 binary.Cons (Var 6 sort.Val) (Of2 binary.Cons (Var 6 sort.Val) (Of2 binary.Cons (Var 6 sort.Val) (Of2 binary.Cons (Var 6 sort.Val) (Of2 binary.Cons (Var 6 sort.Val) (Of2 binary.Cons (Var 6 sort.Val) (Of2 binary.Cons (Var 6 sort.Val) (Of2 binary.Cons (Var 6 sort.Val) (Of2 binary.Cons (Var 6 sort.Val) (Of2 binary.Cons (Var 6 sort.Val) (Of2 binary.Cons (Var 6 sort.Val) (Of2 binary.Cons (Var 6 sort.Val) (Of2 binary.Cons (Var 6 sort.Val) (Of2 binary.Cons (Var 6 sort.Val) (Of2 binary.Cons (Var 6 sort.Val) (Of2 binary.Cons (Var 6 sort.Val) (Of2 binary.Cons (Var 6 sort.Val) (Of2 binary.Cons (Var 6 sort.Val) (Of2 binary.Cons (Var 6 sort.Val) (Of2 binary.Cons (Var 6 sort.Val) (Of2 binary.Cons (Var 6 sort.Val) (Of2 binary.Cons (Var 6 sort.Val) (Of2 binary.Cons (Var 6 sort.Val) (Of2 binary.Cons (Var 6 sort.Val) (Of2 binary.Cons (Var 6 sort.Val) (Of2 binary.Cons (Var 6 sort.Val) (Of2 binary.Cons (Var 6 sort.Val) (Of2 binary.Cons (Var 6 sort.Val) (Of2 binary.Cons (Var 6 sort.Val) (Of2 binary.Cons (Var 6 sort.Val) (Of2 binary.Cons (Var 6 sort.Val) (Of2 binary.Cons (Var 6 sort.Val) (Of2 binary.Cons (Var 6 sort.Val) (Of2 binary.Cons (Var 6 sort.Val) (Of2 binary.Cons (Var 6 sort.Val) (Of2 binary.Cons (Var 6 sort.Val) (Of2 binary.Cons (Var 6 sort.Val) (Of2 binary.Cons (Var 6 sort.Val) (Of2 binary.Cons (Var 6 sort.Val) (Of2 binary.Cons (Var 6 sort.Val) (Of2 binary.Cons (Var 6 sort.Val) (Of2 binary.Cons (Var 6 sort.Val) (Of2 binary.Cons (Var 6 sort.Val) (Of2 binary.Cons (Var 6 sort.Val) (Of2 binary.Cons (Var 6 sort.Val) (Of2 binary.Cons (Var 6 sort.Val) (Of2 binary.Cons (Var 6 sort.Val) (Of2 binary.Cons (Var 6 sort.Val) (Of2 binary.Cons (Var 6 sort.Val) (Of2 binary.Cons (Var 6 sort.Val) (Of2 binary.Cons (Var 6 sort.Val) (Of2 binary.Cons (Var 6 sort.Val) (Of2 binary.Cons (Var 6 sort.Val) (Of2 binary.Cons (Var 6 sort.Val) (Of2 binary.Cons (Var 6 sort.Val) (Of2 binary.Cons (Var 6 sort.Val) (Of2 binary.Cons (Var 6 sort.Val) (Of2 binary.Cons (Var 6 sort.Val) (Of2 binary.Cons (Var 6 sort.Val) (Of2 binary.Cons (Var 6 sort.Val) (Of2 binary.Cons (Var 6 sort.Val) (Of2 binary.Cons (Var 6 sort.Val) (Of2 binary.Cons (Var 6 sort.Val) (Of2 binary.Cons (Var 6 sort.Val) (Of2 binary.Cons (Var 6 sort.Val) (Of2 binary.Cons (Var 6 sort.Val) (Of2 binary.Cons (Var 6 sort.Val) (Of2 binary.Cons (Var 6 sort.Val) (Of2 binary.Cons (Var 6 sort.Val) (Of2 binary.Cons (Var 6 sort.Val) (Of2 binary.Cons (Var 6 sort.Val) (Of2 binary.Cons (Var 6 sort.Val) (Of2 binary.Cons (Var 6 sort.Val) (Of2 binary.Cons (Var 6 sort.Val) (Of2 binary.Cons (Var 6 sort.Val) (Of2 binary.Cons (Var 6 sort.Val) (Of2 binary.Cons (Var 6 sort.Val) (Of2 binary.Cons (Var 6 sort.Val) (Of2 binary.Cons (Var 6 sort.Val) (Of2 binary.Cons (Var 6 sort.Val) (Of2 binary.Cons (Var 6 sort.Val) (Of2 binary.Cons (Var 6 sort.Val) (Of2 binary.Cons (Var 6 sort.Val) (Of2 binary.Cons (Var 6 sort.Val) (Of2 binary.Cons (Var 6 sort.Val) (Of2 binary.Cons (Var 6 sort.Val) (Of2 binary.Cons (Var 6 sort.Val) (Of2 binary.Cons (Var 6 sort.Val) (Of2 binary.Cons (Var 6 sort.Val) (Of2 binary.Cons (Var 6 sort.Val) (Of2 binary.Cons (Var 6 sort.Val) (Of2 binary.Cons (Var 6 sort.Val) (Of2 binary.Cons (Var 6 sort.Val) (Of2 binary.Cons (Var 6 sort.Val) (Of2 binary.Cons (Var 6 sort.Val) (Of2 binary.Cons (Var 6 sort.Val) (Of2 binary.Cons (Var 6 sort.Val) (Of2 binary.Cons (Var 6 sort.Val) (Of2 binary.Cons (Var 6 sort.Val) (Of2 binary.Cons (Var 6 sort.Val) (Of2 binary.Cons (Var 6 sort.Val) (Of2 binary.Cons (Var 6 sort.Val) (Of2 binary.Cons (Var 6 sort.Val) (Of2 binary.Cons (Var 6 sort.Val) (Of2 binary.Cons (Var 6 sort.Val) (Of2 binary.Cons (Var 6 sort.Val) (Of2 binary.Cons (Var 6 sort.Val) (Of2 binary.Cons (Var 6 sort.Val) (Of2 binary.Cons (Var 6 sort.Val) (Of2 binary.Cons (Var 6 sort.Val) (Of2 binary.Cons (Var 6 sort.Val) (Of2 binary.Cons (Var 6 sort.Val) (Of2 binary.Cons (Var 6 sort.Val) (Of2 binary.Cons (Var 6 sort.Val) (Of2 binary.Cons (Var 6 sort.Val) (Of2 binary.Cons (Var 6 sort.Val) (Of2 binary.Cons (Var 6 sort.Val) (Of2 binary.Cons (Var 6 sort.Val) (Of2 binary.Cons (Var 6 sort.Val) (Of2 binary.Cons (Var 6 sort.Val) (Of2 binary.Cons (Var 6 sort.Val) (Of2 binary.Cons (Var 6 sort.Val) (Of2 binary.Cons (Var 6 sort.Val) (Of2 binary.Cons (Var 6 sort.Val) (Of2 binary.Cons (Var 6 sort.Val) (Of2 binary.Cons (Var 6 sort.Val) (Of2 binary.Cons (Var 6 sort.Val) (Of2 binary.Cons (Var 6 sort.Val) (Of2 binary.Cons (Var 6 sort.Val) (Of2 binary.Cons (Var 6 sort.Val) (Of2 binary.Cons (Var 6 sort.Val) (Of2 binary.Cons (Var 6 sort.Val) (Of2 binary.Cons (Var 6 sort.Val) (Of2 binary.Cons (Var 6 sort.Val) (Of2 binary.Cons (Var 6 sort.Val) (Of2 binary.Cons (Var 6 sort.Val) (Of2 binary.Cons (Var 6 sort.Val) (Of2 binary.Cons (Var 6 sort.Val) (Of2 binary.Cons (Var 6 sort.Val) (Of2 binary.Cons (Var 6 sort.Val) (Of2 binary.Cons (Var 6 sort.Val) (Of2 binary.Cons (Var 6 sort.Val) (Of2 binary.Cons (Var 6 sort.Val) (Of2 binary.Cons (Var 6 sort.Val) (Of2 binary.Cons (Var 6 sort.Val) (Of2 binary.Cons (Var 6 sort.Val) (Of2 binary.Cons (Var 6 sort.Val) (Of2 binary.Cons (Var 6 sort.Val) (Of2 binary.Cons (Var 6 sort.Val) (Of2 binary.Cons (Var 6 sort.Val) (Of2 binary.Cons (Var 6 sort.Val) (Of2 binary.Cons (Var 6 sort.Val) (Of2 binary.Cons (Var 6 sort.Val) (Of2 binary.Cons (Var 6 sort.Val) (Of2 binary.Cons (Var 6 sort.Val) (Of2 binary.Cons (Var 6 sort.Val) (Of2 binary.Cons (Var 6 sort.Val) (Of2 binary.Cons (Var 6 sort.Val) (Of2 binary.Cons (Var 6 sort.Val) (Of2 binary.Cons (Var 6 sort.Val) (Of2 binary.Cons (Var 6 sort.Val) (Of2 binary.Cons (Var 6 sort.Val) (Of2 binary.Cons (Var 6 sort.Val) (Of2 binary.Cons (Var 6 sort.Val) (Of2 binary.Cons (Var 6 sort.Val) (Of2 binary.Cons (Var 6 sort.Val) (Of2 binary.Cons (Var 6 sort.Val) (Of2 binary.Cons (Var 6 sort.Val) (Of2 binary.Cons (Var 6 sort.Val) (Of2 binary.Cons (Var 6 sort.Val) (Of2 binary.Cons (Var 6 sort.Val) (Of2 binary.Cons (Var 6 sort.Val) (Of2 binary.Cons (Var 6 sort.Val) (Of2 binary.Cons (Var 6 sort.Val) (Of2 binary.Cons (Var 6 sort.Val) (Of2 binary.Cons (Var 6 sort.Val) (Of2 binary.Cons (Var 6 sort.Val) (Of2 binary.Cons (Var 6 sort.Val) (Of2 binary.Cons (Var 6 sort.Val) (Of2 binary.Cons (Var 6 sort.Val) (Of2 binary.Cons (Var 6 sort.Val) (Of2 binary.Cons (Var 6 sort.Val) Nil)))))))))))))))))))))))))))))))))))))))))))))))))))))))))))))))))))))))))))))))))))))))))))))))))))))))))))))))))))))))))))))))))))))))))))))))))))))))))))))))))))))))))))))))))))))))))))))))))))))))))))))))))))))))))))))))))))))) (Var 7 sort.List))) ∷ []); locals = []; items = ((Data (Number (pos 64)) (Var 4 sort.Val) (Var 7 sort.List)) ∷ []) }); post = (record { opened = []; facts = ([]); locals = []; items = ((Data (Number (pos 64)) (Var 4 sort.Val) (Var 7 sort.List)) ∷ []) }) }) ∷ []) }) (record { is_void = true; name = name_f; params = ([]); vars = ((name_a, sort.Int) ∷ (name_b, sort.Int) ∷ (name_s, sort.Int) ∷ (name_c, sort.Int) ∷ (name_v, sort.Val) ∷ (name_w, sort.Val) ∷ (name_y, sort.Val) ∷ (name_l, sort.List) ∷ (name_m, sort.List) ∷ []); pre = (record { opened = []; facts = ((Rel relation.Eq (Var 7 sort.List) (Of2 binary.App (Of2 binary.Cons (Var 6 sort.Val) (Of2 binary.Cons (Var 6 sort.Val) (Of2 binary.Cons (Var 6 sort.Val) (Of2 binary.Cons (Var 6 sort.Val) (Of2 binary.Cons (Var 6 sort.Val) (Of2 binary.Cons (Var 6 sort.Val) (Of2 binary.Cons (Var 6 sort.Val) (Of2 binary.Cons (Var 6 sort.Val) (Of2 binary.Cons (Var 6 sort.Val) (Of2 binary.Cons (Var 6 sort.Val) (Of2 binary.Cons (Var 6 sort.Val) (Of2 binary.Cons (Var 6 sort.Val) (Of2 binary.Cons (Var 6 sort.Val) (Of2 binary.Cons (Var 6 sort.Val) (Of2 binary.Cons (Var 6 sort.Val) (Of2 binary.Cons (Var 6 sort.Val) (Of2 binary.Cons (Var 6 sort.Val) (Of2 binary.Cons (Var 6 sort.Val) (Of2 binary.Cons (Var 6 sort.Val) (Of2 binary.Cons (Var 6 sort.Val) (Of2 binary.Cons (Var 6 sort.Val) (Of2 binary.Cons (Var 6 sort.Val) (Of2 binary.Cons (Var 6 sort.Val) (Of2 binary.Cons (Var 6 sort.Val) (Of2 binary.Cons (Var 6 sort.Val) (Of2 binary.Cons (Var 6 sort.Val) (Of2 binary.Cons (Var 6 sort.Val) (Of2 binary.Cons (Var 6 sort.Val) (Of2 binary.Cons (Var 6 sort.Val) (Of2 binary.Cons (Var 6 sort.Val) (Of2 binary.Cons (Var 6 sort.Val) (Of2 binary.Cons (Var 6 sort.Val) (Of2 binary.Cons (Var 6 sort.Val) (Of2 binary.Cons (Var 6 sort.Val) (Of2 binary.Cons (Var 6 sort.Val) (Of2 binary.Cons (Var 6 sort.Val) (Of2 binary.Cons (Var 6 sort.Val) (Of2 binary.Cons (Var 6 sort.Val) (Of2 binary.Cons (Var 6 sort.Val) (Of2 binary.Cons (Var 6 sort.Val) (Of2 binary.Cons (Var 6 sort.Val) (Of2 binary.Cons (Var 6 sort.Val) (Of2 binary.Cons (Var 6 sort.Val) (Of2 binary.Cons (Var 6 sort.Val) (Of2 binary.Cons (Var 6 sort.Val) (Of2 binary.Cons (Var 6 sort.Val) (Of2 binary.Cons (Var 6 sort.Val) (Of2 binary.Cons (Var 6 sort.Val) (Of2 binary.Cons (Var 6 sort.Val) (Of2 binary.Cons (Var 6 sort.Val) (Of2 binary.Cons (Var 6 sort.Val) (Of2 binary.Cons (Var 6 sort.Val) (Of2 binary.Cons (Var 6 sort.Val) (Of2 binary.Cons (Var 6 sort.Val) (Of2 binary.Cons (Var 6 sort.Val) (Of2 binary.Cons (Var 6 sort.Val) (Of2 binary.Cons (Var 6 sort.Val) (Of2 binary.Cons (Var 6 sort.Val) (Of2 binary.Cons (Var 6 sort.Val) (Of2 binary.Cons (Var 6 sort.Val) (Of2 binary.Cons (Var 6 sort.Val) (Of2 binary.Cons (Var 6 sort.Val) (Of2 binary.Cons (Var 6 sort.Val) (Of2 binary.Cons (Var 6 sort.Val) (Of2 binary.Cons (Var 6 sort.Val) (Of2 binary.Cons (Var 6 sort.Val) (Of2 binary.Cons (Var 6 sort.Val) (Of2 binary.Cons (Var 6 sort.Val) (Of2 binary.Cons (Var 6 sort.Val) (Of2 binary.Cons (Var 6 sort.Val) (Of2 binary.Cons (Var 6 sort.Val) (Of2 binary.Cons (Var 6 sort.Val) (Of2 binary.Cons (Var 6 sort.Val) (Of2 binary.Cons (Var 6 sort.Val) (Of2 binary.Cons (Var 6 sort.Val) (Of2 binary.Cons (Var 6 sort.Val) (Of2 binary.Cons (Var 6 sort.Val) (Of2 binary.Cons (Var 6 sort.Val) (Of2 binary.Cons (Var 6 sort.Val) (Of2 binary.Cons (Var 6 sort.Val) (Of2 binary.Cons (Var 6 sort.Val) (Of2 binary.Cons (Var 6 sort.Val) (Of2 binary.Cons (Var 6 sort.Val) (Of2 binary.Cons (Var 6 sort.Val) (Of2 binary.Cons (Var 6 sort.Val) (Of2 binary.Cons (Var 6 sort.Val) (Of2 binary.Cons (Var 6 sort.Val) (Of2 binary.Cons (Var 6 sort.Val) (Of2 binary.Cons (Var 6 sort.Val) (Of2 binary.Cons (Var 6 sort.Val) (Of2 binary.Cons (Var 6 sort.Val) (Of2 binary.Cons (Var 6 sort.Val) (Of2 binary.Cons (Var 6 sort.Val) (Of2 binary.Cons (Var 6 sort.Val) (Of2 binary.Cons (Var 6 sort.Val) (Of2 binary.Cons (Var 6 sort.Val) (Of2 binary.Cons (Var 6 sort.Val) (Of2 binary.Cons (Var 6 sort.Val) (Of2 binary.Cons (Var 6 sort.Val) (Of2 binary.Cons (Var 6 sort.Val) (Of2 binary.Cons (Var 6 sort.Val) (Of2 binary.Cons (Var 6 sort.Val) (Of2 binary.Cons (Var 6 sort.Val) (Of2 binary.Cons (Var 6 sort.Val) (Of2 binary.Cons (Var 6 sort.Val) (Of2 binary.Cons (Var 6 sort.Val) (Of2 binary.Cons (Var 6 sort.Val) (Of2 binary.Cons (Var 6 sort.Val) (Of2 binary.Cons (Var 6 sort.Val) (Of2 binary.Cons (Var 6 sort.Val) (Of2 binary.Cons (Var 6 sort.Val) (Of2 binary.Cons (Var 6 sort.Val) (Of2 binary.Cons (Var 6 sort.Val) (Of2 binary.Cons (Var 6 sort.Val) (Of2 binary.Cons (Var 6 sort.Val) (Of2 binary.Cons (Var 6 sort.Val) (Of2 binary.Cons (Var 6 sort.Val) (Of2 binary.Cons (Var 6 sort.Val) (Of2 binary.Cons (Var 6 sort.Val) (Of2 binary.Cons (Var 6 sort.Val) (Of2 binary.Cons (Var 6 sort.Val) (Of2 binary.Cons (Var 6 sort.Val) (Of2 binary.Cons (Var 6 sort.Val) (Of2 binary.Cons (Var 6 sort.Val) (Of2 binary.Cons (Var 6 sort.Val) (Of2 binary.Cons (Var 6 sort.Val) (Of2 binary.Cons (Var 6 sort.Val) (Of2 binary.Cons (Var 6 sort.Val) (Of2 binary.Cons (Var 6 sort.Val) (Of2 binary.Cons (Var 6 sort.Val) (Of2 binary.Cons (Var 6 sort.Val) (Of2 binary.Cons (Var 6 sort.Val) (Of2 binary.Cons (Var 6 sort.Val) (Of2 binary.Cons (Var 6 sort.Val) (Of2 binary.Cons (Var 6 sort.Val) (Of2 binary.Cons (Var 6 sort.Val) (Of2 binary.Cons (Var 6 sort.Val) (Of2 binary.Cons (Var 6 sort.Val) (Of2 binary.Cons (Var 6 sort.Val) (Of2 binary.Cons (Var 6 sort.Val) (Of2 binary.Cons (Var 6 sort.Val) (Of2 binary.Cons (Var 6 sort.Val) (Of2 binary.Cons (Var 6 sort.Val) (Of2 binary.Cons (Var 6 sort.Val) (Of2 binary.Cons (Var 6 sort.Val) (Of2 binary.Cons (Var 6 sort.Val) (Of2 binary.Cons (Var 6 sort.Val) (Of2 binary.Cons (Var 6 sort.Val) (Of2 binary.Cons (Var 6 sort.Val) (Of2 binary.Cons (Var 6 sort.Val) (Of2 binary.Cons (Var 6 sort.Val) (Of2 binary.Cons (Var 6 sort.Val) (Of2 binary.Cons (Var 6 sort.Val) (Of2 binary.Cons (Var 6 sort.Val) (Of2 binary.Cons (Var 6 sort.Val) (Of2 binary.Cons (Var 6 sort.Val) (Of2 binary.Cons (Var 6 sort.Val) (Of2 binary.Cons (Var 6 sort.Val) (Of2 binary.Cons (Var 6 sort.Val) (Of2 binary.Cons (Var 6 sort.Val) (Of2 binary.Cons (Var 6 sort.Val) (Of2 binary.Cons (Var 6 sort.Val) (Of2 binary.Cons (Var 6 sort.Val) (Of2 binary.Cons (Var 6 sort.Val) (Of2 binary.Cons (Var 6 sort.Val) (Of2 binary.Cons (Var 6 sort.Val) (Of2 binary.Cons (Var 6 sort.Val) (Of2 binary.Cons (Var 6 sort.Val) (Of2 binary.Cons (Var 6 sort.Val) (Of2 binary.Cons (Var 6 sort.Val) (Of2 binary.Cons (Var 6 sort.Val) (Of2 binary.Cons (Var 6 sort.Val) (Of2 binary.Cons (Var 6 sort.Val) (Of2 binary.Cons (Var 6 sort.Val) (Of2 binary.Cons (Var 6 sort.Val) (Of2 binary.Cons (Var 6 sort.Val) (Of2 binary.Cons (Var 6 sort.Val) (Of2 binary.Cons (Var 6 sort.Val) (Of2 binary.Cons (Var 6 sort.Val) (Of2 binary.Cons (Var 6 sort.Val) (Of2 binary.Cons (Var 6 sort.Val) (Of2 binary.Cons (Var 6 sort.Val) (Of2 binary.Cons (Var 6 sort.Val) (Of2 binary.Cons (Var 6 sort.Val) (Of2 binary.Cons (Var 6 sort.Val) (Of2 binary.Cons (Var 6 sort.Val) (Of2 binary.Cons (Var 6 sort.Val) (Of2 binary.Cons (Var 6 sort.Val) (Of2 binary.Cons (Var 6 sort.Val) (Of2 binary.Cons (Var 6 sort.Val) (Of2 binary.Cons (Var 6 sort.Val) (Of2 binary.Cons (Var 6 sort.Val) (Of2 binary.Cons (Var 6 sort.Val) (Of2 binary.Cons (Var 6 sort.Val) (Of2 binary.Cons (Var 6 sort.Val) (Of2 binary.Cons (Var 6 sort.Val) (Of2 binary.Cons (Var 6 sort.Val) (Of2 binary.Cons (Var 6 sort.Val) (Of2 binary.Cons (Var 6 sort.Val) (Of2 binary.Cons (Var 6 sort.Val) (Of2 binary.Cons (Var 6 sort.Val) (Of2 binary.Cons (Var 6 sort.Val) (Of2 binary.Cons (Var 6 sort.Val) (Of2 binary.Cons (Var 6 sort.Val) (Of2 binary.Cons (Var 6 sort.Val) (Of2 binary.Cons (Var 6 sort.Val) (Of2 binary.Cons (Var 6 sort.Val) (Of2 binary.Cons (Var 6 sort.Val) (Of2 binary.Cons (Var 6 sort.Val) (Of2 binary.Cons (Var 6 sort.Val) (Of2 binary.Cons (Var 6 sort.Val) (Of2 binary.Cons (Var 6 sort.Val) (Of2 binary.Cons (Var 6 sort.Val) (Of2 binary.Cons (Var 6 sort.Val) (Of2 binary.Cons (Var 6 sort.Val) (Of2 binary.Cons (Var 6 sort.Val) (Of2 binary.Cons (Var 6 sort.Val) (Of2 binary.Cons (Var 6 sort.Val) (Of2 binary.Cons (Var 6 sort.Val) (Of2 binary.Cons (Var 6 sort.Val) (Of2 binary.Cons (Var 6 sort.Val) (Of2 binary.Cons (Var 6 sort.Val) (Of2 binary.Cons (Var 6 sort.Val) (Of2 binary.Cons (Var 6 sort.Val) (Of2 binary.Cons (Var 6 sort.Val) (Of2 binary.Cons (Var 6 sort.Val) (Of2 binary.Cons (Var 6 sort.Val) (Of2 binary.Cons (Var 6 sort.Val) (Of2 binary.Cons (Var 6 sort.Val) (Of2 binary.Cons (Var 6 sort.Val) Nil)))))))))))))))))))))))))))))))))))))))))))))))))))))))))))))))))))))))))))))))))))))))))))))))))))))))))))))))))))))))))))))))))))))))))))))))))))))))))))))))))))))))))))))))))))))))))))))))))))))))))))))))))))))))))))))))))))))) (Var 7 sort.List))) ∷ []); locals = []; items = ((Data (Number (pos 64)) (Var 4 sort.Val) (Var 7 sort.List)) ∷ []) }); post = (record { opened = []; facts = ([]); locals = []; items = ((Data (Number (pos 64)) (Var 4 sort.Val) (Var 7 sort.List)) ∷ []) }) }) (record { temps = ([]); body = (c.Then (c.Return None) c.End) }) (s.Then 1 (s.Rewrite false 0 (occurrence.Item 0)) s.NoBlock (s.Then 2 (s.Rewrite false 0 (occurrence.Item 0)) s.NoBlock (s.Then 3 (s.Rewrite false 0 (occurrence.Item 0)) s.NoBlock (s.Then 4 (s.Return ([]) ([]) ([])) s.NoBlock s.End)))) ≡ (RefusedAt 4 9 5)
unfolding computing
limits_1 = refl

limits_2 : body_verdict (record { predicates = ([]); specs = ((record { is_void = true; name = name_f; params = ([]); vars = ((name_a, sort.Int) ∷ (name_b, sort.Int) ∷ (name_s, sort.Int) ∷ (name_c, sort.Int) ∷ (name_v, sort.Val) ∷ (name_w, sort.Val) ∷ (name_y, sort.Val) ∷ (name_l, sort.List) ∷ (name_m, sort.List) ∷ []); pre = (record { opened = []; facts = ((Rel relation.Eq (Var 0 sort.Int) (Of2 binary.Add (Of2 binary.Mul (Var 0 sort.Int) (Var 1 sort.Int)) (Var 0 sort.Int))) ∷ []); locals = []; items = ((Data (Var 0 sort.Int) (Var 4 sort.Val) (Var 7 sort.List)) ∷ []) }); post = (record { opened = []; facts = ([]); locals = []; items = ((Data (Var 0 sort.Int) (Var 4 sort.Val) (Var 7 sort.List)) ∷ []) }) }) ∷ []) }) (record { is_void = true; name = name_f; params = ([]); vars = ((name_a, sort.Int) ∷ (name_b, sort.Int) ∷ (name_s, sort.Int) ∷ (name_c, sort.Int) ∷ (name_v, sort.Val) ∷ (name_w, sort.Val) ∷ (name_y, sort.Val) ∷ (name_l, sort.List) ∷ (name_m, sort.List) ∷ []); pre = (record { opened = []; facts = ((Rel relation.Eq (Var 0 sort.Int) (Of2 binary.Add (Of2 binary.Mul (Var 0 sort.Int) (Var 1 sort.Int)) (Var 0 sort.Int))) ∷ []); locals = []; items = ((Data (Var 0 sort.Int) (Var 4 sort.Val) (Var 7 sort.List)) ∷ []) }); post = (record { opened = []; facts = ([]); locals = []; items = ((Data (Var 0 sort.Int) (Var 4 sort.Val) (Var 7 sort.List)) ∷ []) }) }) (record { temps = ([]); body = (c.Then (c.Return None) c.End) }) (s.Then 1 (s.Rewrite false 0 (occurrence.Item 0)) s.NoBlock (s.Then 2 (s.Rewrite false 0 (occurrence.Item 0)) s.NoBlock (s.Then 3 (s.Rewrite false 0 (occurrence.Item 0)) s.NoBlock (s.Then 4 (s.Rewrite false 0 (occurrence.Item 0)) s.NoBlock (s.Then 5 (s.Rewrite false 0 (occurrence.Item 0)) s.NoBlock (s.Then 6 (s.Return ([]) ([]) ([])) s.NoBlock s.End)))))) ≡ (RefusedAt 6 9 5)
unfolding computing
limits_2 = refl

limits_3 : body_verdict (record { predicates = ([]); specs = ((record { is_void = false; name = name_main; params = ([]); vars = []; pre = (record { opened = []; facts = ([]); locals = []; items = ((Data (Number (pos 64)) (Global name_z) (Of2 binary.Rep (Of unary.Vi (Number (pos 0))) (Number (pos 1001)))) ∷ []) }); post = (record { opened = []; facts = ([]); locals = []; items = ([]) }) }) ∷ []) }) (record { is_void = false; name = name_main; params = ([]); vars = []; pre = (record { opened = []; facts = ([]); locals = []; items = ((Data (Number (pos 64)) (Global name_z) (Of2 binary.Rep (Of unary.Vi (Number (pos 0))) (Number (pos 1001)))) ∷ []) }); post = (record { opened = []; facts = ([]); locals = []; items = ([]) }) }) (record { temps = ([]); body = (c.Then (c.Return (Some (c.Const 0))) c.End) }) (s.Then 1 (s.Return ([]) ([]) ([])) s.NoBlock s.End) ≡ (RefusedAt 1 9 5)
unfolding computing
limits_3 = refl

limits_4 : init_verdict (record { predicates = ([]); specs = ((record { is_void = false; name = name_main; params = ([]); vars = []; pre = (record { opened = []; facts = ([]); locals = []; items = ((Data (Number (pos 64)) (Global name_z) (Of2 binary.Rep (Of unary.Vi (Number (pos 0))) (Number (pos 1001)))) ∷ []) }); post = (record { opened = []; facts = ([]); locals = []; items = ([]) }) }) ∷ []) }) ((record { name = name_z; cells = 1001; values = ([]) }) ∷ []) (record { opened = []; facts = ([]); locals = []; items = ((Data (Number (pos 64)) (Global name_z) (Of2 binary.Rep (Of unary.Vi (Number (pos 0))) (Number (pos 1001)))) ∷ []) }) (s.Then 1 (s.Meet ([]) ([])) s.NoBlock s.End) ≡ (RefusedAt 0 0 12)
unfolding computing
limits_4 = refl

limits_5 : body_verdict (record { predicates = ([]); specs = ((record { is_void = true; name = name_f; params = ([]); vars = ((name_a, sort.Int) ∷ (name_b, sort.Int) ∷ (name_s, sort.Int) ∷ (name_c, sort.Int) ∷ (name_v, sort.Val) ∷ (name_w, sort.Val) ∷ (name_y, sort.Val) ∷ (name_l, sort.List) ∷ (name_m, sort.List) ∷ []); pre = (record { opened = []; facts = ((Rel relation.Eq (Var 7 sort.List) (Of2 binary.App (Var 7 sort.List) (Var 7 sort.List))) ∷ []); locals = []; items = ((Data (Number (pos 64)) (Var 4 sort.Val) (Var 7 sort.List)) ∷ (Data (Number (pos 64)) (Var 5 sort.Val) (Of2 binary.App (Var 7 sort.List) (Of2 binary.App (Var 7 sort.List) (Var 7 sort.List)))) ∷ (Data (Number (pos 64)) (Var 5 sort.Val) (Of2 binary.App (Var 7 sort.List) (Of2 binary.App (Var 7 sort.List) (Var 7 sort.List)))) ∷ (Data (Number (pos 64)) (Var 5 sort.Val) (Of2 binary.App (Var 7 sort.List) (Of2 binary.App (Var 7 sort.List) (Var 7 sort.List)))) ∷ []) }); post = (record { opened = []; facts = ([]); locals = []; items = ((Data (Number (pos 64)) (Var 4 sort.Val) (Var 7 sort.List)) ∷ (Data (Number (pos 64)) (Var 5 sort.Val) (Of2 binary.App (Var 7 sort.List) (Of2 binary.App (Var 7 sort.List) (Var 7 sort.List)))) ∷ (Data (Number (pos 64)) (Var 5 sort.Val) (Of2 binary.App (Var 7 sort.List) (Of2 binary.App (Var 7 sort.List) (Var 7 sort.List)))) ∷ (Data (Number (pos 64)) (Var 5 sort.Val) (Of2 binary.App (Var 7 sort.List) (Of2 binary.App (Var 7 sort.List) (Var 7 sort.List)))) ∷ []) }) }) ∷ []) }) (record { is_void = true; name = name_f; params = ([]); vars = ((name_a, sort.Int) ∷ (name_b, sort.Int) ∷ (name_s, sort.Int) ∷ (name_c, sort.Int) ∷ (name_v, sort.Val) ∷ (name_w, sort.Val) ∷ (name_y, sort.Val) ∷ (name_l, sort.List) ∷ (name_m, sort.List) ∷ []); pre = (record { opened = []; facts = ((Rel relation.Eq (Var 7 sort.List) (Of2 binary.App (Var 7 sort.List) (Var 7 sort.List))) ∷ []); locals = []; items = ((Data (Number (pos 64)) (Var 4 sort.Val) (Var 7 sort.List)) ∷ (Data (Number (pos 64)) (Var 5 sort.Val) (Of2 binary.App (Var 7 sort.List) (Of2 binary.App (Var 7 sort.List) (Var 7 sort.List)))) ∷ (Data (Number (pos 64)) (Var 5 sort.Val) (Of2 binary.App (Var 7 sort.List) (Of2 binary.App (Var 7 sort.List) (Var 7 sort.List)))) ∷ (Data (Number (pos 64)) (Var 5 sort.Val) (Of2 binary.App (Var 7 sort.List) (Of2 binary.App (Var 7 sort.List) (Var 7 sort.List)))) ∷ []) }); post = (record { opened = []; facts = ([]); locals = []; items = ((Data (Number (pos 64)) (Var 4 sort.Val) (Var 7 sort.List)) ∷ (Data (Number (pos 64)) (Var 5 sort.Val) (Of2 binary.App (Var 7 sort.List) (Of2 binary.App (Var 7 sort.List) (Var 7 sort.List)))) ∷ (Data (Number (pos 64)) (Var 5 sort.Val) (Of2 binary.App (Var 7 sort.List) (Of2 binary.App (Var 7 sort.List) (Var 7 sort.List)))) ∷ (Data (Number (pos 64)) (Var 5 sort.Val) (Of2 binary.App (Var 7 sort.List) (Of2 binary.App (Var 7 sort.List) (Var 7 sort.List)))) ∷ []) }) }) (record { temps = ([]); body = (c.Then (c.Return None) c.End) }) (s.Then 1 (s.Rewrite false 0 (occurrence.Item 0)) s.NoBlock (s.Then 2 (s.Rewrite false 0 (occurrence.Item 0)) s.NoBlock (s.Then 3 (s.Rewrite false 0 (occurrence.Item 0)) s.NoBlock (s.Then 4 (s.Rewrite false 0 (occurrence.Item 0)) s.NoBlock (s.Then 5 (s.Rewrite false 0 (occurrence.Item 0)) s.NoBlock (s.Then 6 (s.Rewrite false 0 (occurrence.Item 0)) s.NoBlock (s.Then 7 (s.Rewrite false 0 (occurrence.Item 0)) s.NoBlock (s.Then 8 (s.Rewrite false 0 (occurrence.Item 0)) s.NoBlock (s.Then 9 (s.Rewrite false 0 (occurrence.Item 0)) s.NoBlock (s.Then 10 (s.Rewrite false 0 (occurrence.Item 0)) s.NoBlock (s.Then 11 (s.Rewrite false 0 (occurrence.Item 0)) s.NoBlock (s.Then 12 (s.Rewrite false 0 (occurrence.Item 0)) s.NoBlock (s.Then 13 (s.Rewrite false 0 (occurrence.Item 0)) s.NoBlock (s.Then 14 (s.Rewrite false 0 (occurrence.Item 0)) s.NoBlock (s.Then 15 (s.Rewrite false 0 (occurrence.Item 0)) s.NoBlock (s.Then 16 (s.Rewrite false 0 (occurrence.Item 0)) s.NoBlock (s.Then 17 (s.Rewrite false 0 (occurrence.Item 0)) s.NoBlock (s.Then 18 (s.Rewrite false 0 (occurrence.Item 0)) s.NoBlock (s.Then 19 (s.Rewrite false 0 (occurrence.Item 1)) s.NoBlock (s.Then 20 (s.Rewrite false 0 (occurrence.Item 0)) s.NoBlock (s.Then 21 (s.Rewrite false 0 (occurrence.Item 2)) s.NoBlock (s.Then 22 (s.Rewrite false 0 (occurrence.Item 1)) s.NoBlock (s.Then 23 (s.Return ([]) ([]) ([])) s.NoBlock s.End))))))))))))))))))))))) ≡ (RefusedAt 15 0 12)
unfolding computing
limits_5 = refl

limits_6 : body_verdict (record { predicates = ([]); specs = ((record { is_void = true; name = name_f; params = ([]); vars = ((name_a, sort.Int) ∷ (name_b, sort.Int) ∷ (name_s, sort.Int) ∷ (name_c, sort.Int) ∷ (name_v, sort.Val) ∷ (name_w, sort.Val) ∷ (name_y, sort.Val) ∷ (name_l, sort.List) ∷ (name_m, sort.List) ∷ []); pre = (record { opened = []; facts = ((Rel relation.Eq (Var 0 sort.Int) (Of2 binary.Add (Of2 binary.Mul (Var 0 sort.Int) (Var 1 sort.Int)) (Var 0 sort.Int))) ∷ []); locals = []; items = ((Data (Var 0 sort.Int) (Var 4 sort.Val) (Var 7 sort.List)) ∷ []) }); post = (record { opened = []; facts = ([]); locals = []; items = ((Data (Var 0 sort.Int) (Var 4 sort.Val) (Var 7 sort.List)) ∷ []) }) }) ∷ []) }) (record { is_void = true; name = name_f; params = ([]); vars = ((name_a, sort.Int) ∷ (name_b, sort.Int) ∷ (name_s, sort.Int) ∷ (name_c, sort.Int) ∷ (name_v, sort.Val) ∷ (name_w, sort.Val) ∷ (name_y, sort.Val) ∷ (name_l, sort.List) ∷ (name_m, sort.List) ∷ []); pre = (record { opened = []; facts = ((Rel relation.Eq (Var 0 sort.Int) (Of2 binary.Add (Of2 binary.Mul (Var 0 sort.Int) (Var 1 sort.Int)) (Var 0 sort.Int))) ∷ []); locals = []; items = ((Data (Var 0 sort.Int) (Var 4 sort.Val) (Var 7 sort.List)) ∷ []) }); post = (record { opened = []; facts = ([]); locals = []; items = ((Data (Var 0 sort.Int) (Var 4 sort.Val) (Var 7 sort.List)) ∷ []) }) }) (record { temps = ([]); body = (c.Then (c.Return None) c.End) }) (s.Then 1 (s.Rewrite false 0 (occurrence.Item 0)) s.NoBlock (s.Then 2 (s.Rewrite false 0 (occurrence.Item 0)) s.NoBlock (s.Then 3 (s.Return ([]) ([]) ([])) s.NoBlock s.End))) ≡ (RefusedAt 3 9 5)
unfolding computing
limits_6 = refl

limits_7 : body_verdict (record { predicates = ([]); specs = ((record { is_void = true; name = name_f; params = ([]); vars = ((name_a, sort.Int) ∷ (name_b, sort.Int) ∷ (name_s, sort.Int) ∷ (name_c, sort.Int) ∷ (name_v, sort.Val) ∷ (name_w, sort.Val) ∷ (name_y, sort.Val) ∷ (name_l, sort.List) ∷ (name_m, sort.List) ∷ []); pre = (record { opened = []; facts = ((Rel relation.Eq (Var 7 sort.List) (Of2 binary.App (Var 7 sort.List) (Var 7 sort.List))) ∷ []); locals = []; items = ((Data (Number (pos 64)) (Var 4 sort.Val) (Var 7 sort.List)) ∷ []) }); post = (record { opened = []; facts = ([]); locals = []; items = ((Data (Number (pos 64)) (Var 4 sort.Val) (Var 7 sort.List)) ∷ []) }) }) ∷ []) }) (record { is_void = true; name = name_f; params = ([]); vars = ((name_a, sort.Int) ∷ (name_b, sort.Int) ∷ (name_s, sort.Int) ∷ (name_c, sort.Int) ∷ (name_v, sort.Val) ∷ (name_w, sort.Val) ∷ (name_y, sort.Val) ∷ (name_l, sort.List) ∷ (name_m, sort.List) ∷ []); pre = (record { opened = []; facts = ((Rel relation.Eq (Var 7 sort.List) (Of2 binary.App (Var 7 sort.List) (Var 7 sort.List))) ∷ []); locals = []; items = ((Data (Number (pos 64)) (Var 4 sort.Val) (Var 7 sort.List)) ∷ []) }); post = (record { opened = []; facts = ([]); locals = []; items = ((Data (Number (pos 64)) (Var 4 sort.Val) (Var 7 sort.List)) ∷ []) }) }) (record { temps = ([]); body = (c.Then (c.Return None) c.End) }) (s.Then 1 (s.Rewrite false 0 (occurrence.Item 0)) s.NoBlock (s.Then 2 (s.Rewrite false 0 (occurrence.Item 0)) s.NoBlock (s.Then 3 (s.Rewrite false 0 (occurrence.Item 0)) s.NoBlock (s.Then 4 (s.Rewrite false 0 (occurrence.Item 0)) s.NoBlock (s.Then 5 (s.Rewrite false 0 (occurrence.Item 0)) s.NoBlock (s.Then 6 (s.Rewrite false 0 (occurrence.Item 0)) s.NoBlock (s.Then 7 (s.Rewrite false 0 (occurrence.Item 0)) s.NoBlock (s.Then 8 (s.Rewrite false 0 (occurrence.Item 0)) s.NoBlock (s.Then 9 (s.Rewrite false 0 (occurrence.Item 0)) s.NoBlock (s.Then 10 (s.Rewrite false 0 (occurrence.Item 0)) s.NoBlock (s.Then 11 (s.Rewrite false 0 (occurrence.Item 0)) s.NoBlock (s.Then 12 (s.Rewrite false 0 (occurrence.Item 0)) s.NoBlock (s.Then 13 (s.Rewrite false 0 (occurrence.Item 0)) s.NoBlock (s.Then 14 (s.Rewrite false 0 (occurrence.Item 0)) s.NoBlock (s.Then 15 (s.Rewrite false 0 (occurrence.Item 0)) s.NoBlock (s.Then 16 (s.Rewrite false 0 (occurrence.Item 0)) s.NoBlock (s.Then 17 (s.Rewrite false 0 (occurrence.Item 0)) s.NoBlock (s.Then 18 (s.Rewrite false 0 (occurrence.Item 0)) s.NoBlock (s.Then 19 (s.Rewrite false 0 (occurrence.Item 0)) s.NoBlock (s.Then 20 (s.Rewrite false 0 (occurrence.Item 0)) s.NoBlock (s.Then 21 (s.Rewrite false 0 (occurrence.Item 0)) s.NoBlock (s.Then 22 (s.Rewrite false 0 (occurrence.Item 0)) s.NoBlock (s.Then 23 (s.Return ([]) ([]) ([])) s.NoBlock s.End))))))))))))))))))))))) ≡ (RefusedAt 15 0 12)
unfolding computing
limits_7 = refl

limits_8 : body_verdict (record { predicates = ([]); specs = ((record { is_void = true; name = name_f; params = ([]); vars = ((name_a, sort.Int) ∷ (name_b, sort.Int) ∷ (name_s, sort.Int) ∷ (name_c, sort.Int) ∷ (name_v, sort.Val) ∷ (name_w, sort.Val) ∷ (name_y, sort.Val) ∷ (name_l, sort.List) ∷ (name_m, sort.List) ∷ []); pre = (record { opened = []; facts = ((Rel relation.Eq (Var 0 sort.Int) (Of2 binary.Add (Of2 binary.Mul (Var 0 sort.Int) (Var 1 sort.Int)) (Var 0 sort.Int))) ∷ []); locals = []; items = ((Data (Var 0 sort.Int) (Var 4 sort.Val) (Var 7 sort.List)) ∷ []) }); post = (record { opened = []; facts = ([]); locals = []; items = ((Data (Var 0 sort.Int) (Var 4 sort.Val) (Var 7 sort.List)) ∷ []) }) }) ∷ []) }) (record { is_void = true; name = name_f; params = ([]); vars = ((name_a, sort.Int) ∷ (name_b, sort.Int) ∷ (name_s, sort.Int) ∷ (name_c, sort.Int) ∷ (name_v, sort.Val) ∷ (name_w, sort.Val) ∷ (name_y, sort.Val) ∷ (name_l, sort.List) ∷ (name_m, sort.List) ∷ []); pre = (record { opened = []; facts = ((Rel relation.Eq (Var 0 sort.Int) (Of2 binary.Add (Of2 binary.Mul (Var 0 sort.Int) (Var 1 sort.Int)) (Var 0 sort.Int))) ∷ []); locals = []; items = ((Data (Var 0 sort.Int) (Var 4 sort.Val) (Var 7 sort.List)) ∷ []) }); post = (record { opened = []; facts = ([]); locals = []; items = ((Data (Var 0 sort.Int) (Var 4 sort.Val) (Var 7 sort.List)) ∷ []) }) }) (record { temps = ([]); body = (c.Then (c.Return None) c.End) }) (s.Then 1 (s.Rewrite false 0 (occurrence.Item 0)) s.NoBlock (s.Then 2 (s.Rewrite false 0 (occurrence.Item 0)) s.NoBlock (s.Then 3 (s.Rewrite false 0 (occurrence.Item 0)) s.NoBlock (s.Then 4 (s.Rewrite false 0 (occurrence.Item 0)) s.NoBlock (s.Then 5 (s.Rewrite false 0 (occurrence.Item 0)) s.NoBlock (s.Then 6 (s.Rewrite false 0 (occurrence.Item 0)) s.NoBlock (s.Then 7 (s.Rewrite false 0 (occurrence.Item 0)) s.NoBlock (s.Then 8 (s.Rewrite false 0 (occurrence.Item 0)) s.NoBlock (s.Then 9 (s.Return ([]) ([]) ([])) s.NoBlock s.End))))))))) ≡ (RefusedAt 9 9 5)
unfolding computing
limits_8 = refl

limits_9 : body_verdict (record { predicates = ([]); specs = ((record { is_void = true; name = name_f; params = ([]); vars = ((name_a, sort.Int) ∷ (name_b, sort.Int) ∷ (name_s, sort.Int) ∷ (name_c, sort.Int) ∷ (name_v, sort.Val) ∷ (name_w, sort.Val) ∷ (name_y, sort.Val) ∷ (name_l, sort.List) ∷ (name_m, sort.List) ∷ []); pre = (record { opened = []; facts = ((Rel relation.Eq (Var 7 sort.List) (Of2 binary.App (Var 7 sort.List) (Var 7 sort.List))) ∷ []); locals = []; items = ((Data (Number (pos 64)) (Var 4 sort.Val) (Var 7 sort.List)) ∷ (Data (Number (pos 64)) (Var 5 sort.Val) (Of2 binary.App (Var 7 sort.List) (Of2 binary.App (Var 7 sort.List) (Var 7 sort.List)))) ∷ (Data (Number (pos 64)) (Var 5 sort.Val) (Of2 binary.App (Var 7 sort.List) (Of2 binary.App (Var 7 sort.List) (Var 7 sort.List)))) ∷ []) }); post = (record { opened = []; facts = ([]); locals = []; items = ((Data (Number (pos 64)) (Var 4 sort.Val) (Var 7 sort.List)) ∷ (Data (Number (pos 64)) (Var 5 sort.Val) (Of2 binary.App (Var 7 sort.List) (Of2 binary.App (Var 7 sort.List) (Var 7 sort.List)))) ∷ (Data (Number (pos 64)) (Var 5 sort.Val) (Of2 binary.App (Var 7 sort.List) (Of2 binary.App (Var 7 sort.List) (Var 7 sort.List)))) ∷ []) }) }) ∷ []) }) (record { is_void = true; name = name_f; params = ([]); vars = ((name_a, sort.Int) ∷ (name_b, sort.Int) ∷ (name_s, sort.Int) ∷ (name_c, sort.Int) ∷ (name_v, sort.Val) ∷ (name_w, sort.Val) ∷ (name_y, sort.Val) ∷ (name_l, sort.List) ∷ (name_m, sort.List) ∷ []); pre = (record { opened = []; facts = ((Rel relation.Eq (Var 7 sort.List) (Of2 binary.App (Var 7 sort.List) (Var 7 sort.List))) ∷ []); locals = []; items = ((Data (Number (pos 64)) (Var 4 sort.Val) (Var 7 sort.List)) ∷ (Data (Number (pos 64)) (Var 5 sort.Val) (Of2 binary.App (Var 7 sort.List) (Of2 binary.App (Var 7 sort.List) (Var 7 sort.List)))) ∷ (Data (Number (pos 64)) (Var 5 sort.Val) (Of2 binary.App (Var 7 sort.List) (Of2 binary.App (Var 7 sort.List) (Var 7 sort.List)))) ∷ []) }); post = (record { opened = []; facts = ([]); locals = []; items = ((Data (Number (pos 64)) (Var 4 sort.Val) (Var 7 sort.List)) ∷ (Data (Number (pos 64)) (Var 5 sort.Val) (Of2 binary.App (Var 7 sort.List) (Of2 binary.App (Var 7 sort.List) (Var 7 sort.List)))) ∷ (Data (Number (pos 64)) (Var 5 sort.Val) (Of2 binary.App (Var 7 sort.List) (Of2 binary.App (Var 7 sort.List) (Var 7 sort.List)))) ∷ []) }) }) (record { temps = ([]); body = (c.Then (c.Return None) c.End) }) (s.Then 1 (s.Rewrite false 0 (occurrence.Item 0)) s.NoBlock (s.Then 2 (s.Rewrite false 0 (occurrence.Item 0)) s.NoBlock (s.Then 3 (s.Rewrite false 0 (occurrence.Item 0)) s.NoBlock (s.Then 4 (s.Rewrite false 0 (occurrence.Item 0)) s.NoBlock (s.Then 5 (s.Rewrite false 0 (occurrence.Item 0)) s.NoBlock (s.Then 6 (s.Rewrite false 0 (occurrence.Item 0)) s.NoBlock (s.Then 7 (s.Rewrite false 0 (occurrence.Item 0)) s.NoBlock (s.Then 8 (s.Rewrite false 0 (occurrence.Item 0)) s.NoBlock (s.Then 9 (s.Rewrite false 0 (occurrence.Item 0)) s.NoBlock (s.Then 10 (s.Rewrite false 0 (occurrence.Item 0)) s.NoBlock (s.Then 11 (s.Rewrite false 0 (occurrence.Item 0)) s.NoBlock (s.Then 12 (s.Rewrite false 0 (occurrence.Item 0)) s.NoBlock (s.Then 13 (s.Rewrite false 0 (occurrence.Item 0)) s.NoBlock (s.Then 14 (s.Rewrite false 0 (occurrence.Item 0)) s.NoBlock (s.Then 15 (s.Rewrite false 0 (occurrence.Item 0)) s.NoBlock (s.Then 16 (s.Rewrite false 0 (occurrence.Item 0)) s.NoBlock (s.Then 17 (s.Rewrite false 0 (occurrence.Item 1)) s.NoBlock (s.Then 18 (s.Rewrite false 0 (occurrence.Item 2)) s.NoBlock (s.Then 19 (s.Rewrite false 0 (occurrence.Item 2)) s.NoBlock (s.Then 20 (s.Rewrite false 0 (occurrence.Item 1)) s.NoBlock (s.Then 21 (s.Rewrite false 0 (occurrence.Item 0)) s.NoBlock (s.Then 22 (s.Rewrite false 0 (occurrence.Item 0)) s.NoBlock (s.Then 23 (s.Return ([]) ([]) ([])) s.NoBlock s.End))))))))))))))))))))))) ≡ (RefusedAt 15 0 12)
unfolding computing
limits_9 = refl

limits_10 : body_verdict (record { predicates = ([]); specs = ((record { is_void = true; name = name_f; params = ([]); vars = ((name_a, sort.Int) ∷ (name_b, sort.Int) ∷ (name_s, sort.Int) ∷ (name_c, sort.Int) ∷ (name_v, sort.Val) ∷ (name_w, sort.Val) ∷ (name_y, sort.Val) ∷ (name_l, sort.List) ∷ (name_m, sort.List) ∷ []); pre = (record { opened = []; facts = ((Rel relation.Eq (Var 7 sort.List) (Of2 binary.App (Var 7 sort.List) (Var 7 sort.List))) ∷ []); locals = []; items = ((Data (Number (pos 64)) (Var 4 sort.Val) (Var 7 sort.List)) ∷ []) }); post = (record { opened = []; facts = ([]); locals = []; items = ((Data (Number (pos 64)) (Var 4 sort.Val) (Var 7 sort.List)) ∷ []) }) }) ∷ []) }) (record { is_void = true; name = name_f; params = ([]); vars = ((name_a, sort.Int) ∷ (name_b, sort.Int) ∷ (name_s, sort.Int) ∷ (name_c, sort.Int) ∷ (name_v, sort.Val) ∷ (name_w, sort.Val) ∷ (name_y, sort.Val) ∷ (name_l, sort.List) ∷ (name_m, sort.List) ∷ []); pre = (record { opened = []; facts = ((Rel relation.Eq (Var 7 sort.List) (Of2 binary.App (Var 7 sort.List) (Var 7 sort.List))) ∷ []); locals = []; items = ((Data (Number (pos 64)) (Var 4 sort.Val) (Var 7 sort.List)) ∷ []) }); post = (record { opened = []; facts = ([]); locals = []; items = ((Data (Number (pos 64)) (Var 4 sort.Val) (Var 7 sort.List)) ∷ []) }) }) (record { temps = ([]); body = (c.Then (c.Return None) c.End) }) (s.Then 1 (s.Rewrite false 0 (occurrence.Item 0)) s.NoBlock (s.Then 2 (s.Rewrite false 0 (occurrence.Item 0)) s.NoBlock (s.Then 3 (s.Rewrite false 0 (occurrence.Item 0)) s.NoBlock (s.Then 4 (s.Rewrite false 0 (occurrence.Item 0)) s.NoBlock (s.Then 5 (s.Rewrite false 0 (occurrence.Item 0)) s.NoBlock (s.Then 6 (s.Rewrite false 0 (occurrence.Item 0)) s.NoBlock (s.Then 7 (s.Rewrite false 0 (occurrence.Item 0)) s.NoBlock (s.Then 8 (s.Rewrite false 0 (occurrence.Item 0)) s.NoBlock (s.Then 9 (s.Rewrite false 0 (occurrence.Item 0)) s.NoBlock (s.Then 10 (s.Rewrite false 0 (occurrence.Item 0)) s.NoBlock (s.Then 11 (s.Rewrite false 0 (occurrence.Item 0)) s.NoBlock (s.Then 12 (s.Rewrite false 0 (occurrence.Item 0)) s.NoBlock (s.Then 13 (s.Rewrite false 0 (occurrence.Item 0)) s.NoBlock (s.Then 14 (s.Rewrite false 0 (occurrence.Item 0)) s.NoBlock (s.Then 15 (s.Rewrite false 0 (occurrence.Item 0)) s.NoBlock (s.Then 16 (s.Rewrite false 0 (occurrence.Item 0)) s.NoBlock (s.Then 17 (s.Rewrite false 0 (occurrence.Item 0)) s.NoBlock (s.Then 18 (s.Return ([]) ([]) ([])) s.NoBlock s.End)))))))))))))))))) ≡ (RefusedAt 15 0 12)
unfolding computing
limits_10 = refl
