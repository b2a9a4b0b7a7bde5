-- The choice of a statement that no word begins but `break` and `continue`.
use Rattle.std.proofs.Common.{◌≡◌, Bool, true, false, List, Result}
use Rattle.vd_grammar.specs.declared.stop.Stop.{Stop}
use Rattle.vd_clight.specs.declared.syntax.Stmt.{Stmt}
use Rattle.vd_grammar.specs.Reading.{by_choice}
use Rattle.vd_grammar.specs.Reads.{Reads}
use Rattle.vd_cgrammar.specs.declared.kind.Class.TheVariants.{Jump}
use Rattle.vd_cgrammar.specs.Kinds.{has}
use Rattle.vd_cgrammar.specs.Lexeme.{Lexeme, kind_of}
use Rattle.vd_cgrammar.specs.Grammar.{Rule, grammar, last_choice}
use Rattle.vd_cgrammar.specs.Read.{read, read_rule}

pub jump_inside : (inside : Bool) (ts : List Lexeme) → inside ≡ true → has Jump (kind_of ts) ≡ true → (r : Result Stmt Stop) (left : List Lexeme)
    → Reads (read_rule Rule.jump ts) r left → Reads (by_choice grammar read (last_choice inside (kind_of ts)) ts) r left
jump_inside true ts e h r left x = rw h x
jump_inside false ts e h r left x = cc

pub other_inside : (inside : Bool) (ts : List Lexeme) → inside ≡ true → has Jump (kind_of ts) ≡ false → (r : Result Stmt Stop) (left : List Lexeme)
    → Reads (read_rule (Rule.other_statement {inside = inside}) ts) r left → Reads (by_choice grammar read (last_choice inside (kind_of ts)) ts) r left
other_inside true ts e h r left x = rw h x
other_inside false ts e h r left x = cc

pub other_outside : (inside : Bool) (ts : List Lexeme) → inside ≡ false → (r : Result Stmt Stop) (left : List Lexeme)
    → Reads (read_rule (Rule.other_statement {inside = inside}) ts) r left → Reads (by_choice grammar read (last_choice inside (kind_of ts)) ts) r left
other_outside true ts e r left x = cc
other_outside false ts e r left x = x
