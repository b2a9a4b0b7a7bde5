-- The words of steps by their groups.
use Rattle.std.proofs.Common.{◌≡◌, ◌||◌, refl}
use Rattle.vd_logic_grammar.specs.declared.kind.Kind.{Kind}
use Rattle.vd_logic_grammar.specs.declared.kind.Kind.TheVariants as k
use Rattle.vd_logic_grammar.specs.declared.kind.Class.TheVariants as c
use Rattle.vd_logic_grammar.specs.Kinds.{has}

pub step_word_is : (kind : Kind) → has c.StepWord kind ≡ ((has c.FlowWord kind || (has c.LeavingWord kind || has c.CallWord kind)) || (has c.FactWord kind || (has c.ItemWord kind || has c.LastWord kind)))
step_word_is k.End = refl
step_word_is _ = refl
