-- What postconditions of the form mean: the terms are integers, and no memory is owned.
use Rattle.std.specs.Prelude.{◌≡◌, zero, List, [], ◌∷◌, Option, None, Some, option_map}
use Rattle.vd_logic.specs.declared.assertion.Assertion.{Assertion}
use Rattle.vd_logic.specs.declared.assertion.Prop.{Prop}
use Rattle.vd_logic.specs.declared.assertion.Prop.TheVariants as prop
use Rattle.vd_logic.specs.declared.assertion.Rel.TheVariants as rel
use Rattle.vd_logic.specs.declared.term.Op.TheVariants as op
use Rattle.vd_logic.specs.declared.term.Sort.TheVariants as sort
use Rattle.vd_logic.specs.declared.term.Term.{Term, Term-F, out-Term}
use Rattle.vd_logic.specs.declared.term.Term.TheOpen as term
use Rattle.vd_mem.specs.declared.value.Value.{Value}
use Rattle.vd_mem.specs.declared.value.Value.TheVariants.{Int}
use Rattle.vd_mem.specs.Memory.{Block}
use Rattle.vd_check.specs.Script.{vi_of}

-- the value of a term, where `r` stands for the value returned: vi(a) is the 32-bit integer a modulo 2^32
abbrev pub meaning_layer : Value → Term-F Term → Option Value
meaning_layer returned (term.Var zero sort.Val) = Some returned
meaning_layer returned (term.App op.Vi args) = option_map Int (vi_of args)
meaning_layer returned _ = None

abbrev pub meaning : Value → Term → Option Value
meaning returned t = meaning_layer returned (out-Term t)

-- an equation is true where both sides have one value
abbrev pub IsTrue : Value → Prop → Type 0
IsTrue returned (prop.Rel rel.Eq a b) = (v : Value) × (meaning returned a ≡ Some v) × (meaning returned b ≡ Some v)
IsTrue returned _ = ⊥

abbrev pub AreTrue : Value → List Prop → Type 0
AreTrue returned [] = Unit {0}
AreTrue returned (p ∷ ps) = IsTrue returned p × AreTrue returned ps

-- the value returned satisfies the postcondition, which owns no memory
abbrev pub Satisfies : Assertion → Value → List Block → Type 0
Satisfies post returned memory = AreTrue returned post.props
