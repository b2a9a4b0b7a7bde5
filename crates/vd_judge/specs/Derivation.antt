-- Derivations by the rules, and the faults of a part of a function.
use Rattle.std.specs.Prelude.{◌≡◌, Bool, true, false, not, ◌&&◌, ◌||◌, List, [], ◌∷◌, Option, None, Some}
use Rattle.vd_clight.specs.declared.syntax.Expr.{Expr}
use Rattle.vd_clight.specs.declared.syntax.Stmt.{Stmt}
use Rattle.vd_clight.specs.declared.typed.TStmt.{TStmt}
use Rattle.vd_judge.specs.declared.fault.TypeFault.{TypeFault}
use Rattle.vd_judge.specs.declared.checked.Checked.{Checked}
use Rattle.vd_judge.specs.declared.checked.Checked.TheVariants.{Typed, Untyped}
use Rattle.vd_judge.specs.declared.found.Found.{Found}
use Rattle.vd_judge.specs.Environment.{Environment}
use Rattle.vd_judge.specs.Fault.{comes_before}
use Rattle.vd_judge.specs.Rule.{Rule, says, expression, statement, rests, beside}
use Rattle.vd_judge.specs.Rules.{expression_rule, statement_rule}
use Rattle.vd_judge.specs.Sort.{Sort, Meaning}
use Rattle.vd_judge.specs.Sort as sort

-- what a construct says: it is typed as x; where a normal form is asked, it has one
abbrev pub Gives : {A : Type 0} → Bool → Checked A → A → Type 0
Gives true (Typed x None) y = x ≡ y
Gives true (Typed x (Some f)) y = ⊥
Gives true (Untyped f) y = ⊥
Gives false (Typed x fault) y = x ≡ y
Gives false (Untyped f) y = ⊥

-- the fault that a construct itself has
abbrev pub fault_of : {A : Type 0} → Checked A → Option TypeFault
fault_of (Typed x fault) = fault
fault_of (Untyped f) = Some f

module _ (env : Environment) where
  -- By a rule a part is typed as x; if `normal`, it is in normal form too. One case for each way to make a rule, whatever the construct.
  pub data Derives (normal : Bool) : (s : Sort) → Rule s → Meaning s → Type 0 where
    by_itself : {s : Sort} {c : Checked (Meaning s)} {x : Meaning s} → Gives normal c x → Derives normal s (says c) x
    by_expression : {e : Expr} {x : Found} → Derives normal sort.found (expression_rule env e) x → Derives normal sort.found (expression e) x
    by_statement : {t : Stmt} {x : TStmt} → Derives normal sort.statement (statement_rule env t) x → Derives normal sort.statement (statement t) x
    by_resting : {s t : Sort} {r : Rule s} {k : Meaning s → Rule t} {x : Meaning s} {y : Meaning t} → Derives normal s r x → Derives normal t (k x) y → Derives normal t (rests r k) y
    by_both : {s t : Sort} {r : Rule s} {q : Rule t} {x : Meaning s} {y : Meaning t} → Derives normal s r x → Derives normal t q y → Derives normal (sort.both s t) (beside r q) (x, y)

  -- The faults of a part, each with the way that leads to it: false is what is read first, true what is read then. What rests on a part is looked at where that part is typed, in normal form or not.
  pub data Faulty : (s : Sort) → Rule s → List Bool → TypeFault → Type 0 where
    itself : {s : Sort} {c : Checked (Meaning s)} {f : TypeFault} → fault_of c ≡ Some f → Faulty s (says c) [] f
    in_expression : {e : Expr} {at : List Bool} {f : TypeFault} → Faulty sort.found (expression_rule env e) at f → Faulty sort.found (expression e) at f
    in_statement : {t : Stmt} {at : List Bool} {f : TypeFault} → Faulty sort.statement (statement_rule env t) at f → Faulty sort.statement (statement t) at f
    in_part : {s t : Sort} {r : Rule s} {k : Meaning s → Rule t} {at : List Bool} {f : TypeFault} → Faulty s r at f → Faulty t (rests r k) (false ∷ at) f
    in_rest : {s t : Sort} {r : Rule s} {k : Meaning s → Rule t} {x : Meaning s} {at : List Bool} {f : TypeFault} → Derives false s r x → Faulty t (k x) at f → Faulty t (rests r k) (true ∷ at) f
    in_left : {s t : Sort} {r : Rule s} {q : Rule t} {at : List Bool} {f : TypeFault} → Faulty s r at f → Faulty (sort.both s t) (beside r q) (false ∷ at) f
    in_right : {s t : Sort} {r : Rule s} {q : Rule t} {at : List Bool} {f : TypeFault} → Faulty t q at f → Faulty (sort.both s t) (beside r q) (true ∷ at) f

-- ---- the first fault

-- one way is read no later than another
abbrev pub is_no_later : List Bool → List Bool → Bool
is_no_later [] bt = true
is_no_later (a ∷ at) [] = false
is_no_later (false ∷ at) (false ∷ bt) = is_no_later at bt
is_no_later (false ∷ at) (true ∷ bt) = true
is_no_later (true ∷ at) (false ∷ bt) = false
is_no_later (true ∷ at) (true ∷ bt) = is_no_later at bt

-- a fault is answered rather than another: it comes before that; or neither comes before the other, and it is read no later
abbrev pub leads : List Bool → TypeFault → List Bool → TypeFault → Bool
leads at f bt g = comes_before f g || (not (comes_before g f) && is_no_later at bt)

-- the first of a set of faults
abbrev pub IsFirst : (List Bool → TypeFault → Type 0) → TypeFault → Type 0
IsFirst S f = (at : List Bool) × S at f × ((bt : List Bool) (g : TypeFault) → S bt g → leads at f bt g ≡ true)
