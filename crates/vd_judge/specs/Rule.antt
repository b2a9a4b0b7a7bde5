-- A rule of typing: what it asks of its parts, in reading order, and what it then says.
use Rattle.vd_clight.specs.declared.syntax.Expr.{Expr}
use Rattle.vd_clight.specs.declared.syntax.Stmt.{Stmt}
use Rattle.vd_judge.specs.declared.checked.Checked.{Checked}
use Rattle.vd_judge.specs.Sort.{Sort, Meaning}
use Rattle.vd_judge.specs.Sort as sort

-- `says` is what a construct itself says where its parts are typed: what it is, and one fault at most. `beside` has two parts that do not rest on one another; what `rests` on a part is said only where that part is typed.
pub data Rule : Sort → Type 0 where
  says : {s : Sort} → Checked (Meaning s) → Rule s
  expression : Expr → Rule sort.found
  statement : Stmt → Rule sort.statement
  rests : {s t : Sort} → Rule s → (Meaning s → Rule t) → Rule t
  beside : {s t : Sort} → Rule s → Rule t → Rule (sort.both s t)
