-- Proof scripts: what each step does to a symbolic state, which scripts are good, and where another one fails first.
use Rattle.std.specs.Prelude.{◌≡◌, ℕ, zero, ◌+◌, ◌%◌, ◌^◌, pos, Bool, false, ◌&&◌, ◌==◌, List, [], ◌∷◌, Option, None, Some, if◌then◌else◌, map, option_map, min, slice_set}
use Rattle.std.specs.List.{list_all}
use Rattle.vd_clight.specs.declared.typed.TStmt.{TStmt, TStmt-F, out-TStmt}
use Rattle.vd_clight.specs.declared.typed.TStmt.TheOpen as statement
use Rattle.vd_clight.specs.declared.typed.TypedFn.{TypedFn}
use Rattle.vd_logic.specs.declared.assertion.Assertion.{Assertion}
use Rattle.vd_logic.specs.declared.assertion.Prop.{Prop}
use Rattle.vd_logic.specs.declared.assertion.Prop.TheVariants as prop
use Rattle.vd_logic.specs.declared.assertion.Rel.TheVariants as rel
use Rattle.vd_logic.specs.declared.step.Step.{Step}
use Rattle.vd_logic.specs.declared.step.StepNode.{StepNode}
use Rattle.vd_logic.specs.declared.step.StepNode.TheVariants as step
use Rattle.vd_logic.specs.declared.term.Op.TheVariants as op
use Rattle.vd_logic.specs.declared.term.Sort.TheVariants as sort
use Rattle.vd_logic.specs.declared.term.Term.{Term, Term-F, out-Term}
use Rattle.vd_logic.specs.declared.term.Term.TheOpen as term
use Rattle.vd_store.specs.declared.work.Verdict.{Verdict}
use Rattle.vd_store.specs.declared.work.Verdict.TheVariants.{Accepted, Refused as RefusedAt}
use Rattle.vd_check.specs.Rule.{rule_of}
use Rattle.vd_check.specs.Value.{Value, Locals, value, is_proved}

-- ---- postconditions

-- the number that a term is
abbrev pub number_layer : Term-F Term → Option ℕ
number_layer (term.Num (pos n)) = Some n
number_layer _ = None

-- the n of vi(n) in normal form, of one number
abbrev pub vi_of : List Term → Option ℕ
vi_of (a ∷ []) = option_map (λ n. n % 2 ^ 32) (number_layer (out-Term a))
vi_of _ = None

-- the n of a side of an equation, vi(n) in normal form, where the result `r` is vi(result)
abbrev pub side_layer : ℕ → Term-F Term → Option ℕ
side_layer result (term.Var zero sort.Val) = Some result
side_layer result (term.App op.Vi args) = vi_of args
side_layer result _ = None

abbrev pub side : ℕ → Term → Option ℕ
side result t = side_layer result (out-Term t)

abbrev pub are_equal : Option ℕ → Option ℕ → Bool
are_equal (Some a) (Some b) = a == b
are_equal _ _ = false

-- an equation of equals is evident
abbrev pub is_evident : ℕ → Prop → Bool
is_evident result (prop.Rel rel.Eq a b) = are_equal (side result a) (side result b)
is_evident result _ = false

-- a returned vi(result) meets the postcondition
abbrev pub meets : Assertion → ℕ → Bool
meets post result = list_all (is_evident result) post.props

-- ---- rules

-- a symbolic state: the values of the temporaries, and the statements left
pub record Node : Type 0 where
  pub locals : Locals
  pub left : List TStmt

-- the states that a step leads to, none where the branch ends, or the first condition of its rule that fails
pub data Applied : Type 0 where
  Children : List Node → Applied
  Refused : ℕ → Applied

-- another statement stands there
abbrev pub shape : Applied
shape = Refused 1

-- `set`: an expression without a value fails 2, an open obligation 3
abbrev pub set_to : Locals → ℕ → List TStmt → Option Value → Applied
set_to locals i rest None = Refused 2
set_to locals i rest (Some v) = if is_proved v then Children (record { locals = slice_set locals i (Some v.number); left = rest } ∷ []) else Refused 3

abbrev pub set_first : Locals → TStmt-F TStmt → List TStmt → Applied
set_first locals (statement.Set i e) rest = set_to locals i rest (value locals e)
set_first locals _ rest = shape

abbrev pub set_rule : Node → List TStmt → Applied
set_rule node [] = shape
set_rule node (s ∷ rest) = set_first node.locals (out-TStmt s) rest

-- `return`: the value meets the postcondition, and the branch ends
abbrev pub return_with : Assertion → Option Value → Applied
return_with post None = Refused 2
return_with post (Some v) = if is_proved v && meets post v.number then Children [] else Refused 3

abbrev pub return_first : Assertion → Locals → TStmt-F TStmt → Applied
return_first post locals (statement.Return (Some e)) = return_with post (value locals e)
return_first post locals _ = shape

abbrev pub return_rule : Assertion → Node → List TStmt → Applied
return_rule post node [] = shape
return_rule post node (s ∷ rest) = return_first post node.locals (out-TStmt s)

-- What a step does. The form has these two steps alone, without covers, certificates and terms.
abbrev pub apply : Assertion → Node → StepNode → Applied
apply post node (step.Set covers certificates) = set_rule node node.left
apply post node (step.Return terms covers certificates) = return_rule post node node.left
apply post node _ = shape

-- ---- scripts

-- each step leads from its node to the next one, and the last one ends the branch
pub data IsGood (post : Assertion) : Node → List Step → Type 0 where
  ends : {n : Node} {s : Step} → apply post n s.node ≡ Children [] → IsGood post n (s ∷ [])
  goes : {n m : Node} {s : Step} {ss : List Step} → apply post n s.node ≡ Children (m ∷ []) → IsGood post m ss → IsGood post n (s ∷ ss)

-- the largest number of a step or place that a verdict shows
abbrev pub shown : ℕ → ℕ
shown n = min n 4294967295

-- Behind the step `last` the script fails first at this step, by this condition of this rule.
-- Rule 0 stands for no step: 10, a step is needed and the script ends; 11, a step stands behind the branch's end.
pub data Fails (post : Assertion) : ℕ → Node → List Step → ℕ → ℕ → ℕ → Type 0 where
  lacks : {last k : ℕ} {n : Node} → k ≡ shown (last + 1) → Fails post last n [] k 0 10
  refused : {last k r c : ℕ} {n : Node} {s : Step} {ss : List Step} → apply post n s.node ≡ Refused c → k ≡ s.number → r ≡ rule_of s.node → Fails post last n (s ∷ ss) k r c
  extra : {last k : ℕ} {n : Node} {s t : Step} {ss : List Step} → apply post n s.node ≡ Children [] → k ≡ t.number → Fails post last n (s ∷ t ∷ ss) k 0 11
  later : {last k r c : ℕ} {n m : Node} {s : Step} {ss : List Step} → apply post n s.node ≡ Children (m ∷ []) → Fails post s.number m ss k r c → Fails post last n (s ∷ ss) k r c

-- ---- bodies

-- at the entry no temporary has a value
abbrev pub entry : TypedFn → Node
entry f = record { locals = map (λ name. None) f.temps; left = f.body }

-- behind the step `last` the script gives this verdict: it is good, or this is where it fails first
abbrev pub HasVerdictFrom : Assertion → ℕ → Node → List Step → Verdict → Type 0
HasVerdictFrom post last node steps Accepted = IsGood post node steps
HasVerdictFrom post last node steps (RefusedAt k r c) = Fails post last node steps k r c

-- the verdict on a body by its script, whose returns meet the postcondition
abbrev pub HasVerdict : Assertion → TypedFn → List Step → Verdict → Type 0
HasVerdict post f steps v = HasVerdictFrom post 0 (entry f) steps v
