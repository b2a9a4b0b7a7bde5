-- What typing finds of a part: the part typed, with the first fault within it that leaves it typed; or its first fault.
use Rattle.std.specs.Prelude.{List, [], ◌∷◌, ◌++◌, Option, None, Some}
use Rattle.vd_judge.specs.declared.fault.TypeFault.{TypeFault}
use Rattle.vd_judge.specs.declared.checked.Checked.{Checked}
use Rattle.vd_judge.specs.declared.checked.Checked.TheVariants.{Typed, Untyped}
use Rattle.vd_judge.specs.Fault.{earlier, first}

-- typed and without a fault
abbrev pub fine : {A : Type 0} → A → Checked A
fine x = Typed x None

-- typed, unless there is a fault
abbrev pub unless : {A : Type 0} → Option TypeFault → A → Checked A
unless None x = Typed x None
unless (Some f) x = Untyped f

-- what rests on something that has no fault
abbrev pub where_fine : {A : Type 0} → Option TypeFault → Checked A → Checked A
where_fine None part = part
where_fine (Some f) part = Untyped f

-- with a fault found earlier
abbrev pub also : {A : Type 0} → Option TypeFault → Checked A → Checked A
also fault (Typed x more) = Typed x (first fault more)
also None (Untyped more) = Untyped more
also (Some f) (Untyped more) = Untyped (earlier f more)

-- what rests on a part: nothing is said of it where the part is not typed
abbrev pub follows : {A B : Type 0} → Checked A → (A → Checked B) → Checked B
follows (Typed x fault) f = also fault (f x)
follows (Untyped fault) f = Untyped fault

-- two parts that do not rest on one another: the first fault of both
abbrev pub pair : {A B : Type 0} → Checked A → Checked B → Checked (A × B)
pair (Typed x fault) (Typed y more) = Typed (x, y) (first fault more)
pair (Typed x fault) (Untyped more) = also fault (Untyped more)
pair (Untyped fault) (Typed y None) = Untyped fault
pair (Untyped fault) (Typed y (Some more)) = Untyped (earlier fault more)
pair (Untyped fault) (Untyped more) = Untyped (earlier fault more)

-- a list of parts with one more at its end
abbrev pub with_last : {A : Type 0} → List A × A → Checked (List A)
with_last p = fine (p.0 ++ p.1 ∷ [])

abbrev pub added : {A : Type 0} → Checked (List A) → Checked A → Checked (List A)
added xs x = follows (pair xs x) with_last

-- all of a list, in order, behind those that are there
abbrev pub gathered : {A : Type 0} → Checked (List A) → List (Checked A) → Checked (List A)
gathered sofar [] = sofar
gathered sofar (x ∷ xs) = gathered (added sofar x) xs
