-- What rules of typing speak of: the parts of a function, as they are when they are typed.
use Rattle.std.specs.Prelude.{ℕ, List, Option}
use Rattle.vd_base.specs.declared.ctype.CType.{CType}
use Rattle.vd_clight.specs.declared.typed.Cond.{Cond}
use Rattle.vd_clight.specs.declared.typed.TExpr.{TExpr}
use Rattle.vd_clight.specs.declared.typed.TStmt.{TStmt}
use Rattle.vd_clight.specs.declared.typed.TypedFn.{TypedFn}
use Rattle.vd_judge.specs.declared.found.Found.{Found}
use Rattle.vd_judge.specs.declared.found.Operand.{Operand}
use Rattle.vd_judge.specs.declared.found.Condition.{Condition}
use Rattle.vd_judge.specs.declared.found.Target.{Target}
use Rattle.vd_judge.specs.declared.place.Pointer.{Pointer}

pub data Sort : Type 0 where
  -- an expression: its type, and what it denotes
  found : Sort
  -- as a value, as a pointer, as a condition, as a left side
  operand : Sort
  pointer : Sort
  condition : Sort
  target : Sort
  -- where a call's result goes, if anywhere, and its type
  destination : Sort
  result : Sort
  typ : Sort
  -- the cells of a type
  cells : Sort
  -- typed syntax
  value : Sort
  values : Sort
  test : Sort
  -- the function that a thread runs, and its argument
  thread : Sort
  statement : Sort
  statements : Sort
  function : Sort
  -- declarations
  nothing : Sort
  both : Sort → Sort → Sort

abbrev pub Meaning : Sort → Type 0
Meaning found = Found
Meaning operand = Operand
Meaning pointer = Pointer
Meaning condition = Condition
Meaning target = Target
Meaning destination = Option Target
Meaning result = Option ℕ
Meaning typ = CType
Meaning cells = ℕ
Meaning value = TExpr
Meaning values = List TExpr
Meaning test = Cond
Meaning thread = List ℕ × TExpr
Meaning statement = TStmt
Meaning statements = List TStmt
Meaning function = TypedFn
Meaning nothing = Unit {0}
Meaning (both s t) = Meaning s × Meaning t
