-- Initial predicates at the edges of their conditions.
use Rattle.std.specs.Prelude.{◌≡◌, refl, pos, [], ◌∷◌, true}
use Rattle.vd_terms.specs.Terms.{Number, Var, Named, Global, Nil, Of, Of2}
use Rattle.vd_terms.specs.declared.assertion.FactOf.TheVariants.{Rel, IsPtr}
use Rattle.vd_terms.specs.declared.assertion.ItemOf.TheVariants.{Data, Pred}
use Rattle.vd_rules.specs.Computing.{computing}
use Rattle.vd_rules.specs.Verdicts.{Accepted, RefusedAt, init_verdict}
use Rattle.vd_terms.specs.declared.operation.Unary.TheVariants as unary
use Rattle.vd_terms.specs.declared.operation.Binary.TheVariants as binary
use Rattle.vd_logic.specs.declared.term.Sort.TheVariants as sort
use Rattle.vd_logic.specs.declared.assertion.Rel.TheVariants as relation
use Rattle.vd_logic.specs.declared.step.Occurrence.TheVariants as occurrence
use Rattle.vd_steps.specs.Script as s
use Rattle.vd_examples.specs.Names.{name_A, name_Z, name_g, name_h, name_k, name_x}

initial_1 : init_verdict (record { predicates = ((record { name = name_A; args = (sort.Int ∷ []); cases = ((record { opened = []; facts = ((Rel relation.Le (Number (pos 0)) (Var 0 sort.Int)) ∷ []); locals = []; items = ((Data (Number (pos 64)) (Global name_g) (Of2 binary.Cons (Of unary.Vi (Var 0 sort.Int)) Nil)) ∷ []) }) ∷ (record { opened = (sort.Val ∷ []); facts = ((IsPtr (Var 1 sort.Val)) ∷ []); locals = []; items = ((Data (Number (pos 64)) (Global name_h) (Of2 binary.Cons (Var 1 sort.Val) (Of2 binary.Cons (Of unary.Vi (Var 0 sort.Int)) Nil))) ∷ []) }) ∷ []) }) ∷ []); specs = ([]) }) ((record { name = name_g; cells = 1; values = ((Of unary.Vi (Number (pos 3))) ∷ []) }) ∷ (record { name = name_h; cells = 2; values = ((Global name_g) ∷ (Of unary.Vi (Number (pos 0))) ∷ []) }) ∷ (record { name = name_k; cells = 3; values = ((Of unary.Vi (Number (pos 4294967295))) ∷ []) }) ∷ []) (record { opened = []; facts = ([]); locals = []; items = ((Data (Number (pos 64)) (Global name_g) (Of2 binary.Cons (Of unary.Vi (Number (pos 3))) Nil)) ∷ (Data (Number (pos 64)) (Global name_h) (Of2 binary.Cons (Global name_g) (Of2 binary.Cons (Of unary.Vi (Number (pos 0))) Nil))) ∷ (Data (Number (pos 64)) (Global name_k) (Of2 binary.Cons (Of unary.Vi (Of2 binary.Sub (Number (pos 0)) (Number (pos 1)))) (Of2 binary.Cons (Of unary.Vi (Number (pos 0))) (Of2 binary.Cons (Of unary.Vi (Number (pos 0))) Nil)))) ∷ []) }) (s.Then 1 (s.Meet ([]) ([])) s.NoBlock s.End) ≡ Accepted
unfolding computing
initial_1 = refl

initial_2 : init_verdict (record { predicates = ((record { name = name_A; args = (sort.Int ∷ []); cases = ((record { opened = []; facts = ((Rel relation.Le (Number (pos 0)) (Var 0 sort.Int)) ∷ []); locals = []; items = ((Data (Number (pos 64)) (Global name_g) (Of2 binary.Cons (Of unary.Vi (Var 0 sort.Int)) Nil)) ∷ []) }) ∷ (record { opened = (sort.Val ∷ []); facts = ((IsPtr (Var 1 sort.Val)) ∷ []); locals = []; items = ((Data (Number (pos 64)) (Global name_h) (Of2 binary.Cons (Var 1 sort.Val) (Of2 binary.Cons (Of unary.Vi (Var 0 sort.Int)) Nil))) ∷ []) }) ∷ []) }) ∷ []); specs = ([]) }) ((record { name = name_g; cells = 1; values = ((Of unary.Vi (Number (pos 3))) ∷ []) }) ∷ (record { name = name_h; cells = 2; values = ((Global name_g) ∷ (Of unary.Vi (Number (pos 0))) ∷ []) }) ∷ (record { name = name_k; cells = 3; values = ((Of unary.Vi (Number (pos 4294967295))) ∷ []) }) ∷ []) (record { opened = []; facts = ([]); locals = []; items = ((Data (Number (pos 64)) (Global name_k) (Of2 binary.Cons (Of unary.Vi (Of2 binary.Sub (Number (pos 0)) (Number (pos 1)))) (Of2 binary.Cons (Of unary.Vi (Number (pos 0))) (Of2 binary.Cons (Of unary.Vi (Number (pos 0))) Nil)))) ∷ (Data (Number (pos 64)) (Global name_h) (Of2 binary.Cons (Global name_g) (Of2 binary.Cons (Of unary.Vi (Number (pos 0))) Nil))) ∷ (Data (Number (pos 64)) (Global name_g) (Of2 binary.Cons (Of unary.Vi (Number (pos 3))) Nil)) ∷ []) }) (s.Then 1 (s.Meet ([]) ([])) s.NoBlock s.End) ≡ Accepted
unfolding computing
initial_2 = refl

initial_3 : init_verdict (record { predicates = ((record { name = name_A; args = (sort.Int ∷ []); cases = ((record { opened = []; facts = ((Rel relation.Le (Number (pos 0)) (Var 0 sort.Int)) ∷ []); locals = []; items = ((Data (Number (pos 64)) (Global name_g) (Of2 binary.Cons (Of unary.Vi (Var 0 sort.Int)) Nil)) ∷ []) }) ∷ (record { opened = (sort.Val ∷ []); facts = ((IsPtr (Var 1 sort.Val)) ∷ []); locals = []; items = ((Data (Number (pos 64)) (Global name_h) (Of2 binary.Cons (Var 1 sort.Val) (Of2 binary.Cons (Of unary.Vi (Var 0 sort.Int)) Nil))) ∷ []) }) ∷ []) }) ∷ []); specs = ([]) }) ((record { name = name_g; cells = 1; values = ((Of unary.Vi (Number (pos 3))) ∷ []) }) ∷ (record { name = name_h; cells = 2; values = ((Global name_g) ∷ (Of unary.Vi (Number (pos 0))) ∷ []) }) ∷ (record { name = name_k; cells = 3; values = ((Of unary.Vi (Number (pos 4294967295))) ∷ []) }) ∷ []) (record { opened = []; facts = ([]); locals = []; items = ((Data (Number (pos 64)) (Global name_k) (Of2 binary.Cons (Of unary.Vi (Of2 binary.Sub (Number (pos 0)) (Number (pos 1)))) (Of2 binary.Cons (Of unary.Vi (Number (pos 0))) (Of2 binary.Cons (Of unary.Vi (Number (pos 0))) Nil)))) ∷ (Data (Number (pos 64)) (Global name_h) (Of2 binary.Cons (Global name_g) (Of2 binary.Cons (Of unary.Vi (Number (pos 0))) Nil))) ∷ []) }) (s.Then 1 (s.Meet ([]) ([])) s.NoBlock s.End) ≡ (RefusedAt 1 37 5)
unfolding computing
initial_3 = refl

initial_4 : init_verdict (record { predicates = ((record { name = name_A; args = (sort.Int ∷ []); cases = ((record { opened = []; facts = ((Rel relation.Le (Number (pos 0)) (Var 0 sort.Int)) ∷ []); locals = []; items = ((Data (Number (pos 64)) (Global name_g) (Of2 binary.Cons (Of unary.Vi (Var 0 sort.Int)) Nil)) ∷ []) }) ∷ (record { opened = (sort.Val ∷ []); facts = ((IsPtr (Var 1 sort.Val)) ∷ []); locals = []; items = ((Data (Number (pos 64)) (Global name_h) (Of2 binary.Cons (Var 1 sort.Val) (Of2 binary.Cons (Of unary.Vi (Var 0 sort.Int)) Nil))) ∷ []) }) ∷ []) }) ∷ []); specs = ([]) }) ((record { name = name_g; cells = 1; values = ((Of unary.Vi (Number (pos 3))) ∷ []) }) ∷ (record { name = name_h; cells = 2; values = ((Global name_g) ∷ (Of unary.Vi (Number (pos 0))) ∷ []) }) ∷ (record { name = name_k; cells = 3; values = ((Of unary.Vi (Number (pos 4294967295))) ∷ []) }) ∷ []) (record { opened = []; facts = ([]); locals = []; items = ((Data (Number (pos 64)) (Global name_k) (Of2 binary.Cons (Of unary.Vi (Of2 binary.Sub (Number (pos 0)) (Number (pos 1)))) (Of2 binary.Cons (Of unary.Vi (Number (pos 0))) (Of2 binary.Cons (Of unary.Vi (Number (pos 0))) Nil)))) ∷ (Data (Number (pos 64)) (Global name_h) (Of2 binary.Cons (Global name_g) (Of2 binary.Cons (Of unary.Vi (Number (pos 0))) Nil))) ∷ (Pred (record { name = name_A; args = ((Number (pos 3)) ∷ []) })) ∷ []) }) (s.Then 1 (s.Fold name_A 0 ((Number (pos 3)) ∷ []) ([]) ([])) s.NoBlock (s.Then 2 (s.Meet ([]) ([])) s.NoBlock s.End)) ≡ Accepted
unfolding computing
initial_4 = refl

initial_5 : init_verdict (record { predicates = ((record { name = name_A; args = (sort.Int ∷ []); cases = ((record { opened = []; facts = ((Rel relation.Le (Number (pos 0)) (Var 0 sort.Int)) ∷ []); locals = []; items = ((Data (Number (pos 64)) (Global name_g) (Of2 binary.Cons (Of unary.Vi (Var 0 sort.Int)) Nil)) ∷ []) }) ∷ (record { opened = (sort.Val ∷ []); facts = ((IsPtr (Var 1 sort.Val)) ∷ []); locals = []; items = ((Data (Number (pos 64)) (Global name_h) (Of2 binary.Cons (Var 1 sort.Val) (Of2 binary.Cons (Of unary.Vi (Var 0 sort.Int)) Nil))) ∷ []) }) ∷ []) }) ∷ []); specs = ([]) }) ((record { name = name_g; cells = 1; values = ((Of unary.Vi (Number (pos 3))) ∷ []) }) ∷ (record { name = name_h; cells = 2; values = ((Global name_g) ∷ (Of unary.Vi (Number (pos 0))) ∷ []) }) ∷ (record { name = name_k; cells = 3; values = ((Of unary.Vi (Number (pos 4294967295))) ∷ []) }) ∷ []) (record { opened = []; facts = ([]); locals = []; items = ((Data (Number (pos 64)) (Global name_k) (Of2 binary.Cons (Of unary.Vi (Of2 binary.Sub (Number (pos 0)) (Number (pos 1)))) (Of2 binary.Cons (Of unary.Vi (Number (pos 0))) (Of2 binary.Cons (Of unary.Vi (Number (pos 0))) Nil)))) ∷ (Data (Number (pos 64)) (Global name_h) (Of2 binary.Cons (Global name_g) (Of2 binary.Cons (Of unary.Vi (Number (pos 0))) Nil))) ∷ (Pred (record { name = name_A; args = ((Number (pos 4)) ∷ []) })) ∷ []) }) (s.Then 1 (s.Fold name_A 0 ((Number (pos 3)) ∷ []) ([]) ([])) s.NoBlock (s.Then 2 (s.Meet ([]) ([])) s.NoBlock s.End)) ≡ (RefusedAt 2 37 5)
unfolding computing
initial_5 = refl

initial_6 : init_verdict (record { predicates = ((record { name = name_A; args = (sort.Int ∷ []); cases = ((record { opened = []; facts = ((Rel relation.Le (Number (pos 0)) (Var 0 sort.Int)) ∷ []); locals = []; items = ((Data (Number (pos 64)) (Global name_g) (Of2 binary.Cons (Of unary.Vi (Var 0 sort.Int)) Nil)) ∷ []) }) ∷ (record { opened = (sort.Val ∷ []); facts = ((IsPtr (Var 1 sort.Val)) ∷ []); locals = []; items = ((Data (Number (pos 64)) (Global name_h) (Of2 binary.Cons (Var 1 sort.Val) (Of2 binary.Cons (Of unary.Vi (Var 0 sort.Int)) Nil))) ∷ []) }) ∷ []) }) ∷ []); specs = ([]) }) ((record { name = name_g; cells = 1; values = ((Of unary.Vi (Number (pos 3))) ∷ []) }) ∷ (record { name = name_h; cells = 2; values = ((Global name_g) ∷ (Of unary.Vi (Number (pos 0))) ∷ []) }) ∷ (record { name = name_k; cells = 3; values = ((Of unary.Vi (Number (pos 4294967295))) ∷ []) }) ∷ []) (record { opened = []; facts = ([]); locals = []; items = ((Data (Number (pos 64)) (Global name_k) (Of2 binary.Cons (Of unary.Vi (Of2 binary.Sub (Number (pos 0)) (Number (pos 1)))) (Of2 binary.Cons (Of unary.Vi (Number (pos 0))) (Of2 binary.Cons (Of unary.Vi (Number (pos 0))) Nil)))) ∷ (Data (Number (pos 64)) (Global name_h) (Of2 binary.Cons (Global name_g) (Of2 binary.Cons (Of unary.Vi (Number (pos 0))) Nil))) ∷ (Pred (record { name = name_A; args = ((Number (pos 4)) ∷ []) })) ∷ []) }) (s.Then 1 (s.Fold name_A 0 ((Number (pos 4)) ∷ []) ([]) ([])) s.NoBlock (s.Then 2 (s.Meet ([]) ([])) s.NoBlock s.End)) ≡ (RefusedAt 1 21 5)
unfolding computing
initial_6 = refl

initial_7 : init_verdict (record { predicates = ((record { name = name_A; args = (sort.Int ∷ []); cases = ((record { opened = []; facts = ((Rel relation.Le (Number (pos 0)) (Var 0 sort.Int)) ∷ []); locals = []; items = ((Data (Number (pos 64)) (Global name_g) (Of2 binary.Cons (Of unary.Vi (Var 0 sort.Int)) Nil)) ∷ []) }) ∷ (record { opened = (sort.Val ∷ []); facts = ((IsPtr (Var 1 sort.Val)) ∷ []); locals = []; items = ((Data (Number (pos 64)) (Global name_h) (Of2 binary.Cons (Var 1 sort.Val) (Of2 binary.Cons (Of unary.Vi (Var 0 sort.Int)) Nil))) ∷ []) }) ∷ []) }) ∷ []); specs = ([]) }) ((record { name = name_g; cells = 1; values = ((Of unary.Vi (Number (pos 3))) ∷ []) }) ∷ (record { name = name_h; cells = 2; values = ((Global name_g) ∷ (Of unary.Vi (Number (pos 0))) ∷ []) }) ∷ (record { name = name_k; cells = 3; values = ((Of unary.Vi (Number (pos 4294967295))) ∷ []) }) ∷ []) (record { opened = []; facts = ([]); locals = []; items = ((Data (Number (pos 64)) (Global name_k) (Of2 binary.Cons (Of unary.Vi (Of2 binary.Sub (Number (pos 0)) (Number (pos 1)))) (Of2 binary.Cons (Of unary.Vi (Number (pos 0))) (Of2 binary.Cons (Of unary.Vi (Number (pos 0))) Nil)))) ∷ (Data (Number (pos 64)) (Global name_g) (Of2 binary.Cons (Of unary.Vi (Number (pos 3))) Nil)) ∷ (Pred (record { name = name_A; args = ((Number (pos 0)) ∷ []) })) ∷ []) }) (s.Then 1 (s.Fold name_A 1 ((Number (pos 0)) ∷ []) ((Global name_g) ∷ []) ([])) s.NoBlock (s.Then 2 (s.Meet ([]) ([])) s.NoBlock s.End)) ≡ Accepted
unfolding computing
initial_7 = refl

initial_8 : init_verdict (record { predicates = ((record { name = name_A; args = (sort.Int ∷ []); cases = ((record { opened = []; facts = ((Rel relation.Le (Number (pos 0)) (Var 0 sort.Int)) ∷ []); locals = []; items = ((Data (Number (pos 64)) (Global name_g) (Of2 binary.Cons (Of unary.Vi (Var 0 sort.Int)) Nil)) ∷ []) }) ∷ (record { opened = (sort.Val ∷ []); facts = ((IsPtr (Var 1 sort.Val)) ∷ []); locals = []; items = ((Data (Number (pos 64)) (Global name_h) (Of2 binary.Cons (Var 1 sort.Val) (Of2 binary.Cons (Of unary.Vi (Var 0 sort.Int)) Nil))) ∷ []) }) ∷ []) }) ∷ []); specs = ([]) }) ((record { name = name_g; cells = 1; values = ((Of unary.Vi (Number (pos 3))) ∷ []) }) ∷ (record { name = name_h; cells = 2; values = ((Global name_g) ∷ (Of unary.Vi (Number (pos 0))) ∷ []) }) ∷ (record { name = name_k; cells = 3; values = ((Of unary.Vi (Number (pos 4294967295))) ∷ []) }) ∷ []) (record { opened = []; facts = ([]); locals = []; items = ((Data (Number (pos 64)) (Global name_k) (Of2 binary.Cons (Of unary.Vi (Of2 binary.Sub (Number (pos 0)) (Number (pos 1)))) (Of2 binary.Cons (Of unary.Vi (Number (pos 0))) (Of2 binary.Cons (Of unary.Vi (Number (pos 0))) Nil)))) ∷ (Data (Number (pos 64)) (Global name_g) (Of2 binary.Cons (Of unary.Vi (Number (pos 3))) Nil)) ∷ (Pred (record { name = name_A; args = ((Number (pos 0)) ∷ []) })) ∷ []) }) (s.Then 1 (s.Fold name_A 1 ((Number (pos 0)) ∷ []) ((Global name_h) ∷ []) ([])) s.NoBlock (s.Then 2 (s.Meet ([]) ([])) s.NoBlock s.End)) ≡ (RefusedAt 1 21 5)
unfolding computing
initial_8 = refl

initial_9 : init_verdict (record { predicates = ((record { name = name_A; args = (sort.Int ∷ []); cases = ((record { opened = []; facts = ((Rel relation.Le (Number (pos 0)) (Var 0 sort.Int)) ∷ []); locals = []; items = ((Data (Number (pos 64)) (Global name_g) (Of2 binary.Cons (Of unary.Vi (Var 0 sort.Int)) Nil)) ∷ []) }) ∷ (record { opened = (sort.Val ∷ []); facts = ((IsPtr (Var 1 sort.Val)) ∷ []); locals = []; items = ((Data (Number (pos 64)) (Global name_h) (Of2 binary.Cons (Var 1 sort.Val) (Of2 binary.Cons (Of unary.Vi (Var 0 sort.Int)) Nil))) ∷ []) }) ∷ []) }) ∷ []); specs = ([]) }) ((record { name = name_g; cells = 1; values = ((Of unary.Vi (Number (pos 3))) ∷ []) }) ∷ (record { name = name_h; cells = 2; values = ((Global name_g) ∷ (Of unary.Vi (Number (pos 0))) ∷ []) }) ∷ (record { name = name_k; cells = 3; values = ((Of unary.Vi (Number (pos 4294967295))) ∷ []) }) ∷ []) (record { opened = []; facts = ([]); locals = []; items = ((Pred (record { name = name_A; args = ((Number (pos 0)) ∷ []) })) ∷ []) }) (s.Then 1 (s.Fold name_A 2 ((Number (pos 0)) ∷ []) ([]) ([])) s.NoBlock (s.Then 2 (s.Meet ([]) ([])) s.NoBlock s.End)) ≡ (RefusedAt 1 21 1)
unfolding computing
initial_9 = refl

initial_10 : init_verdict (record { predicates = ((record { name = name_A; args = (sort.Int ∷ []); cases = ((record { opened = []; facts = ((Rel relation.Le (Number (pos 0)) (Var 0 sort.Int)) ∷ []); locals = []; items = ((Data (Number (pos 64)) (Global name_g) (Of2 binary.Cons (Of unary.Vi (Var 0 sort.Int)) Nil)) ∷ []) }) ∷ (record { opened = (sort.Val ∷ []); facts = ((IsPtr (Var 1 sort.Val)) ∷ []); locals = []; items = ((Data (Number (pos 64)) (Global name_h) (Of2 binary.Cons (Var 1 sort.Val) (Of2 binary.Cons (Of unary.Vi (Var 0 sort.Int)) Nil))) ∷ []) }) ∷ []) }) ∷ []); specs = ([]) }) ((record { name = name_g; cells = 1; values = ((Of unary.Vi (Number (pos 3))) ∷ []) }) ∷ (record { name = name_h; cells = 2; values = ((Global name_g) ∷ (Of unary.Vi (Number (pos 0))) ∷ []) }) ∷ (record { name = name_k; cells = 3; values = ((Of unary.Vi (Number (pos 4294967295))) ∷ []) }) ∷ []) (record { opened = []; facts = ([]); locals = []; items = ((Pred (record { name = name_A; args = ((Number (pos 0)) ∷ []) })) ∷ []) }) (s.Then 1 (s.Meet ((Number (pos 0)) ∷ []) ([])) s.NoBlock s.End) ≡ (RefusedAt 1 37 1)
unfolding computing
initial_10 = refl

initial_11 : init_verdict (record { predicates = ((record { name = name_A; args = (sort.Int ∷ []); cases = ((record { opened = []; facts = ((Rel relation.Le (Number (pos 0)) (Var 0 sort.Int)) ∷ []); locals = []; items = ((Data (Number (pos 64)) (Global name_g) (Of2 binary.Cons (Of unary.Vi (Var 0 sort.Int)) Nil)) ∷ []) }) ∷ (record { opened = (sort.Val ∷ []); facts = ((IsPtr (Var 1 sort.Val)) ∷ []); locals = []; items = ((Data (Number (pos 64)) (Global name_h) (Of2 binary.Cons (Var 1 sort.Val) (Of2 binary.Cons (Of unary.Vi (Var 0 sort.Int)) Nil))) ∷ []) }) ∷ []) }) ∷ []); specs = ([]) }) ((record { name = name_g; cells = 1; values = ((Of unary.Vi (Number (pos 3))) ∷ []) }) ∷ (record { name = name_h; cells = 2; values = ((Global name_g) ∷ (Of unary.Vi (Number (pos 0))) ∷ []) }) ∷ (record { name = name_k; cells = 3; values = ((Of unary.Vi (Number (pos 4294967295))) ∷ []) }) ∷ []) (record { opened = []; facts = ([]); locals = []; items = ((Pred (record { name = name_A; args = ((Number (pos 0)) ∷ []) })) ∷ []) }) s.End ≡ (RefusedAt 1 0 10)
unfolding computing
initial_11 = refl

initial_12 : init_verdict (record { predicates = ((record { name = name_A; args = (sort.Int ∷ []); cases = ((record { opened = []; facts = ((Rel relation.Le (Number (pos 0)) (Var 0 sort.Int)) ∷ []); locals = []; items = ((Data (Number (pos 64)) (Global name_g) (Of2 binary.Cons (Of unary.Vi (Var 0 sort.Int)) Nil)) ∷ []) }) ∷ (record { opened = (sort.Val ∷ []); facts = ((IsPtr (Var 1 sort.Val)) ∷ []); locals = []; items = ((Data (Number (pos 64)) (Global name_h) (Of2 binary.Cons (Var 1 sort.Val) (Of2 binary.Cons (Of unary.Vi (Var 0 sort.Int)) Nil))) ∷ []) }) ∷ []) }) ∷ []); specs = ([]) }) ((record { name = name_g; cells = 1; values = ((Of unary.Vi (Number (pos 3))) ∷ []) }) ∷ (record { name = name_h; cells = 2; values = ((Global name_g) ∷ (Of unary.Vi (Number (pos 0))) ∷ []) }) ∷ (record { name = name_k; cells = 3; values = ((Of unary.Vi (Number (pos 4294967295))) ∷ []) }) ∷ []) (record { opened = []; facts = ([]); locals = []; items = ((Pred (record { name = name_A; args = ((Number (pos 0)) ∷ []) })) ∷ []) }) (s.Then 1 (s.Return ([]) ([]) ([])) s.NoBlock s.End) ≡ (RefusedAt 1 9 1)
unfolding computing
initial_12 = refl

initial_13 : init_verdict (record { predicates = ((record { name = name_A; args = (sort.Int ∷ []); cases = ((record { opened = []; facts = ((Rel relation.Le (Number (pos 0)) (Var 0 sort.Int)) ∷ []); locals = []; items = ((Data (Number (pos 64)) (Global name_g) (Of2 binary.Cons (Of unary.Vi (Var 0 sort.Int)) Nil)) ∷ []) }) ∷ (record { opened = (sort.Val ∷ []); facts = ((IsPtr (Var 1 sort.Val)) ∷ []); locals = []; items = ((Data (Number (pos 64)) (Global name_h) (Of2 binary.Cons (Var 1 sort.Val) (Of2 binary.Cons (Of unary.Vi (Var 0 sort.Int)) Nil))) ∷ []) }) ∷ []) }) ∷ []); specs = ([]) }) ((record { name = name_g; cells = 1; values = ((Of unary.Vi (Number (pos 3))) ∷ []) }) ∷ (record { name = name_h; cells = 2; values = ((Global name_g) ∷ (Of unary.Vi (Number (pos 0))) ∷ []) }) ∷ (record { name = name_k; cells = 3; values = ((Of unary.Vi (Number (pos 4294967295))) ∷ []) }) ∷ []) (record { opened = []; facts = ([]); locals = []; items = ((Pred (record { name = name_A; args = ((Number (pos 0)) ∷ []) })) ∷ []) }) (s.Then 1 (s.Fall ([]) ([])) s.NoBlock s.End) ≡ (RefusedAt 1 10 1)
unfolding computing
initial_13 = refl

initial_14 : init_verdict (record { predicates = ((record { name = name_A; args = (sort.Int ∷ []); cases = ((record { opened = []; facts = ((Rel relation.Le (Number (pos 0)) (Var 0 sort.Int)) ∷ []); locals = []; items = ((Data (Number (pos 64)) (Global name_g) (Of2 binary.Cons (Of unary.Vi (Var 0 sort.Int)) Nil)) ∷ []) }) ∷ (record { opened = (sort.Val ∷ []); facts = ((IsPtr (Var 1 sort.Val)) ∷ []); locals = []; items = ((Data (Number (pos 64)) (Global name_h) (Of2 binary.Cons (Var 1 sort.Val) (Of2 binary.Cons (Of unary.Vi (Var 0 sort.Int)) Nil))) ∷ []) }) ∷ []) }) ∷ []); specs = ([]) }) ((record { name = name_g; cells = 1; values = ((Of unary.Vi (Number (pos 3))) ∷ []) }) ∷ (record { name = name_h; cells = 2; values = ((Global name_g) ∷ (Of unary.Vi (Number (pos 0))) ∷ []) }) ∷ (record { name = name_k; cells = 3; values = ((Of unary.Vi (Number (pos 4294967295))) ∷ []) }) ∷ []) (record { opened = []; facts = ([]); locals = []; items = ((Pred (record { name = name_A; args = ((Number (pos 0)) ∷ []) })) ∷ []) }) (s.Then 1 s.Skip s.NoBlock s.End) ≡ (RefusedAt 1 1 1)
unfolding computing
initial_14 = refl

initial_15 : init_verdict (record { predicates = ((record { name = name_A; args = (sort.Int ∷ []); cases = ((record { opened = []; facts = ((Rel relation.Le (Number (pos 0)) (Var 0 sort.Int)) ∷ []); locals = []; items = ((Data (Number (pos 64)) (Global name_g) (Of2 binary.Cons (Of unary.Vi (Var 0 sort.Int)) Nil)) ∷ []) }) ∷ (record { opened = (sort.Val ∷ []); facts = ((IsPtr (Var 1 sort.Val)) ∷ []); locals = []; items = ((Data (Number (pos 64)) (Global name_h) (Of2 binary.Cons (Var 1 sort.Val) (Of2 binary.Cons (Of unary.Vi (Var 0 sort.Int)) Nil))) ∷ []) }) ∷ []) }) ∷ []); specs = ([]) }) ((record { name = name_g; cells = 1; values = ((Of unary.Vi (Number (pos 3))) ∷ []) }) ∷ (record { name = name_h; cells = 2; values = ((Global name_g) ∷ (Of unary.Vi (Number (pos 0))) ∷ []) }) ∷ (record { name = name_k; cells = 3; values = ((Of unary.Vi (Number (pos 4294967295))) ∷ []) }) ∷ []) (record { opened = []; facts = ([]); locals = []; items = ((Data (Number (pos 64)) (Global name_k) (Of2 binary.Cons (Of unary.Vi (Of2 binary.Sub (Number (pos 0)) (Number (pos 1)))) (Of2 binary.Cons (Of unary.Vi (Number (pos 0))) (Of2 binary.Cons (Of unary.Vi (Number (pos 0))) Nil)))) ∷ (Data (Number (pos 64)) (Global name_h) (Of2 binary.Cons (Global name_g) (Of2 binary.Cons (Of unary.Vi (Number (pos 0))) Nil))) ∷ (Pred (record { name = name_A; args = ((Number (pos 3)) ∷ []) })) ∷ []) }) (s.Then 1 (s.Fold name_A 0 ((Number (pos 3)) ∷ []) ([]) ([])) s.NoBlock (s.Then 2 (s.Meet ([]) ([])) s.NoBlock (s.Then 3 (s.Meet ([]) ([])) s.NoBlock s.End))) ≡ (RefusedAt 3 0 11)
unfolding computing
initial_15 = refl

initial_16 : init_verdict (record { predicates = ((record { name = name_A; args = (sort.Int ∷ []); cases = ((record { opened = []; facts = ((Rel relation.Le (Number (pos 0)) (Var 0 sort.Int)) ∷ []); locals = []; items = ((Data (Number (pos 64)) (Global name_g) (Of2 binary.Cons (Of unary.Vi (Var 0 sort.Int)) Nil)) ∷ []) }) ∷ (record { opened = (sort.Val ∷ []); facts = ((IsPtr (Var 1 sort.Val)) ∷ []); locals = []; items = ((Data (Number (pos 64)) (Global name_h) (Of2 binary.Cons (Var 1 sort.Val) (Of2 binary.Cons (Of unary.Vi (Var 0 sort.Int)) Nil))) ∷ []) }) ∷ []) }) ∷ []); specs = ([]) }) ((record { name = name_g; cells = 1; values = ((Of unary.Vi (Number (pos 3))) ∷ []) }) ∷ (record { name = name_h; cells = 2; values = ((Global name_g) ∷ (Of unary.Vi (Number (pos 0))) ∷ []) }) ∷ (record { name = name_k; cells = 3; values = ((Of unary.Vi (Number (pos 4294967295))) ∷ []) }) ∷ []) (record { opened = []; facts = ([]); locals = []; items = ((Data (Number (pos 64)) (Global name_k) (Of2 binary.Cons (Of unary.Vi (Of2 binary.Sub (Number (pos 0)) (Number (pos 1)))) (Of2 binary.Cons (Of unary.Vi (Number (pos 0))) (Of2 binary.Cons (Of unary.Vi (Number (pos 0))) Nil)))) ∷ (Data (Number (pos 64)) (Global name_h) (Of2 binary.Cons (Global name_g) (Of2 binary.Cons (Of unary.Vi (Number (pos 0))) Nil))) ∷ (Data (Number (pos 32)) (Global name_g) (Of2 binary.Cons (Of unary.Vi (Number (pos 3))) Nil)) ∷ (Data (Number (pos 32)) (Global name_g) (Of2 binary.Cons (Of unary.Vi (Number (pos 3))) Nil)) ∷ []) }) (s.Then 1 (s.Share 0 (Number (pos 32)) ([])) s.NoBlock (s.Then 2 (s.Meet ([]) ([])) s.NoBlock s.End)) ≡ Accepted
unfolding computing
initial_16 = refl

initial_17 : init_verdict (record { predicates = ((record { name = name_A; args = (sort.Int ∷ []); cases = ((record { opened = []; facts = ((Rel relation.Le (Number (pos 0)) (Var 0 sort.Int)) ∷ []); locals = []; items = ((Data (Number (pos 64)) (Global name_g) (Of2 binary.Cons (Of unary.Vi (Var 0 sort.Int)) Nil)) ∷ []) }) ∷ (record { opened = (sort.Val ∷ []); facts = ((IsPtr (Var 1 sort.Val)) ∷ []); locals = []; items = ((Data (Number (pos 64)) (Global name_h) (Of2 binary.Cons (Var 1 sort.Val) (Of2 binary.Cons (Of unary.Vi (Var 0 sort.Int)) Nil))) ∷ []) }) ∷ []) }) ∷ []); specs = ([]) }) ((record { name = name_g; cells = 1; values = ((Of unary.Vi (Number (pos 3))) ∷ []) }) ∷ (record { name = name_h; cells = 2; values = ((Global name_g) ∷ (Of unary.Vi (Number (pos 0))) ∷ []) }) ∷ (record { name = name_k; cells = 3; values = ((Of unary.Vi (Number (pos 4294967295))) ∷ []) }) ∷ []) (record { opened = []; facts = ([]); locals = []; items = ((Data (Number (pos 64)) (Global name_k) (Of2 binary.Cons (Of unary.Vi (Of2 binary.Sub (Number (pos 0)) (Number (pos 1)))) (Of2 binary.Cons (Of unary.Vi (Number (pos 0))) (Of2 binary.Cons (Of unary.Vi (Number (pos 0))) Nil)))) ∷ (Data (Number (pos 64)) (Global name_h) (Of2 binary.Cons (Global name_g) Nil)) ∷ (Data (Number (pos 64)) (Of2 binary.Off (Global name_h) (Number (pos 1))) (Of2 binary.Cons (Of unary.Vi (Number (pos 0))) Nil)) ∷ (Data (Number (pos 64)) (Global name_g) (Of2 binary.Cons (Of unary.Vi (Number (pos 3))) Nil)) ∷ []) }) (s.Then 1 (s.Cut 1 (Of2 binary.Cons (Global name_g) Nil) (Of2 binary.Cons (Of unary.Vi (Number (pos 0))) Nil)) s.NoBlock (s.Then 2 (s.Meet ([]) ([])) s.NoBlock s.End)) ≡ Accepted
unfolding computing
initial_17 = refl

initial_18 : init_verdict (record { predicates = ((record { name = name_A; args = (sort.Int ∷ []); cases = ((record { opened = []; facts = ((Rel relation.Le (Number (pos 0)) (Var 0 sort.Int)) ∷ []); locals = []; items = ((Data (Number (pos 64)) (Global name_g) (Of2 binary.Cons (Of unary.Vi (Var 0 sort.Int)) Nil)) ∷ []) }) ∷ (record { opened = (sort.Val ∷ []); facts = ((IsPtr (Var 1 sort.Val)) ∷ []); locals = []; items = ((Data (Number (pos 64)) (Global name_h) (Of2 binary.Cons (Var 1 sort.Val) (Of2 binary.Cons (Of unary.Vi (Var 0 sort.Int)) Nil))) ∷ []) }) ∷ []) }) ∷ []); specs = ([]) }) ((record { name = name_g; cells = 1; values = ((Of unary.Vi (Number (pos 3))) ∷ []) }) ∷ (record { name = name_h; cells = 2; values = ((Global name_g) ∷ (Of unary.Vi (Number (pos 0))) ∷ []) }) ∷ (record { name = name_k; cells = 3; values = ((Of unary.Vi (Number (pos 4294967295))) ∷ []) }) ∷ []) (record { opened = []; facts = ([]); locals = []; items = ((Data (Number (pos 64)) (Global name_k) (Of2 binary.Cons (Of unary.Vi (Of2 binary.Sub (Number (pos 0)) (Number (pos 1)))) (Of2 binary.Cons (Of unary.Vi (Number (pos 0))) (Of2 binary.Cons (Of unary.Vi (Number (pos 0))) Nil)))) ∷ (Data (Number (pos 64)) (Global name_h) (Of2 binary.Cons (Global name_g) (Of2 binary.Cons (Of unary.Vi (Number (pos 0))) Nil))) ∷ (Pred (record { name = name_Z; args = ((Number (pos 3)) ∷ []) })) ∷ []) }) (s.Then 1 (s.Fold name_Z 0 ((Number (pos 3)) ∷ []) ([]) ([])) s.NoBlock (s.Then 2 (s.Meet ([]) ([])) s.NoBlock s.End)) ≡ (RefusedAt 1 21 7)
unfolding computing
initial_18 = refl

initial_19 : init_verdict (record { predicates = ((record { name = name_A; args = (sort.Int ∷ []); cases = ((record { opened = []; facts = ((Rel relation.Le (Number (pos 0)) (Var 0 sort.Int)) ∷ []); locals = []; items = ((Data (Number (pos 64)) (Global name_g) (Of2 binary.Cons (Of unary.Vi (Var 0 sort.Int)) Nil)) ∷ []) }) ∷ (record { opened = (sort.Val ∷ []); facts = ((IsPtr (Var 1 sort.Val)) ∷ []); locals = []; items = ((Data (Number (pos 64)) (Global name_h) (Of2 binary.Cons (Var 1 sort.Val) (Of2 binary.Cons (Of unary.Vi (Var 0 sort.Int)) Nil))) ∷ []) }) ∷ []) }) ∷ []); specs = ([]) }) ((record { name = name_g; cells = 1; values = ((Of unary.Vi (Number (pos 3))) ∷ []) }) ∷ (record { name = name_h; cells = 2; values = ((Global name_g) ∷ (Of unary.Vi (Number (pos 0))) ∷ []) }) ∷ (record { name = name_k; cells = 3; values = ((Of unary.Vi (Number (pos 4294967295))) ∷ []) }) ∷ []) (record { opened = []; facts = ([]); locals = []; items = ((Data (Number (pos 64)) (Global name_k) (Of2 binary.Cons (Of unary.Vi (Of2 binary.Sub (Number (pos 0)) (Number (pos 1)))) (Of2 binary.Cons (Of unary.Vi (Number (pos 0))) (Of2 binary.Cons (Of unary.Vi (Number (pos 0))) Nil)))) ∷ (Data (Number (pos 64)) (Global name_h) (Of2 binary.Cons (Global name_g) (Of2 binary.Cons (Of unary.Vi (Number (pos 0))) Nil))) ∷ (Pred (record { name = name_A; args = ((Named name_x) ∷ []) })) ∷ []) }) (s.Then 1 (s.Naming name_x (Number (pos 3))) s.NoBlock (s.Then 2 (s.Fold name_A 0 ((Named name_x) ∷ []) ([]) ([])) s.NoBlock (s.Then 3 (s.Meet ([]) ([])) s.NoBlock s.End))) ≡ (RefusedAt 2 21 3)
unfolding computing
initial_19 = refl

initial_20 : init_verdict (record { predicates = ((record { name = name_A; args = (sort.Int ∷ []); cases = ((record { opened = []; facts = ((Rel relation.Le (Number (pos 0)) (Var 0 sort.Int)) ∷ []); locals = []; items = ((Data (Number (pos 64)) (Global name_g) (Of2 binary.Cons (Of unary.Vi (Var 0 sort.Int)) Nil)) ∷ []) }) ∷ (record { opened = (sort.Val ∷ []); facts = ((IsPtr (Var 1 sort.Val)) ∷ []); locals = []; items = ((Data (Number (pos 64)) (Global name_h) (Of2 binary.Cons (Var 1 sort.Val) (Of2 binary.Cons (Of unary.Vi (Var 0 sort.Int)) Nil))) ∷ []) }) ∷ []) }) ∷ []); specs = ([]) }) ((record { name = name_g; cells = 1; values = ((Of unary.Vi (Number (pos 3))) ∷ []) }) ∷ (record { name = name_h; cells = 2; values = ((Global name_g) ∷ (Of unary.Vi (Number (pos 0))) ∷ []) }) ∷ (record { name = name_k; cells = 3; values = ((Of unary.Vi (Number (pos 4294967295))) ∷ []) }) ∷ []) (record { opened = []; facts = ([]); locals = []; items = ((Data (Number (pos 64)) (Global name_k) (Of2 binary.Cons (Of unary.Vi (Of2 binary.Sub (Number (pos 0)) (Number (pos 1)))) (Of2 binary.Cons (Of unary.Vi (Number (pos 0))) (Of2 binary.Cons (Of unary.Vi (Number (pos 0))) Nil)))) ∷ (Data (Number (pos 64)) (Global name_h) (Of2 binary.Cons (Global name_g) (Of2 binary.Cons (Of unary.Vi (Number (pos 0))) Nil))) ∷ (Pred (record { name = name_A; args = ((Number (pos 3)) ∷ []) })) ∷ []) }) (s.Then 1 (s.Naming name_x (Number (pos 3))) s.NoBlock (s.Then 2 (s.Rewrite true 0 (occurrence.Item 0)) s.NoBlock (s.Then 3 (s.Fold name_A 0 ((Named name_x) ∷ []) ([]) ([])) s.NoBlock (s.Then 4 (s.Meet ([]) ([])) s.NoBlock s.End)))) ≡ (RefusedAt 3 21 3)
unfolding computing
initial_20 = refl
