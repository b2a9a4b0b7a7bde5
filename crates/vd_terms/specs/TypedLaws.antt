-- What is true of well-sorted terms.
use Rattle.std.specs.Prelude.{◌≡◌, List, slice_get, Some}
use Rattle.vd_logic.specs.declared.term.Sort.{Sort}
use Rattle.vd_terms.specs.Terms.{Term, Number, Var, Named, Global, Undef, Nil, Of, Of2, Of3}
use Rattle.vd_terms.specs.Sorts.{sort_of}
use Rattle.vd_terms.specs.Typed.{Any, IsTerm}

-- each variable of a term stands among the given ones with its sort
abbrev pub StandAmong : List Sort → Term → Type 0
StandAmong vars (Number n) = Unit {0}
StandAmong vars (Var x s) = slice_get vars x ≡ Some s
StandAmong vars (Named name) = Unit {0}
StandAmong vars (Global g) = Unit {0}
StandAmong vars Undef = Unit {0}
StandAmong vars Nil = Unit {0}
StandAmong vars (Of o a) = StandAmong vars a
StandAmong vars (Of2 o a b) = StandAmong vars a × StandAmong vars b
StandAmong vars (Of3 o a b c) = StandAmong vars a × (StandAmong vars b × StandAmong vars c)

-- a well-sorted term is of the sort that is computed of it, and its variables stand among the given ones
abbrev pub WellSortedHaveSort : Type 0
WellSortedHaveSort = (vars : List Sort) (s : Sort) (t : Term) → IsTerm Any vars s t → (sort_of t ≡ Some s) × StandAmong vars t

-- and any such term is well sorted
abbrev pub SortedAreWellSorted : Type 0
SortedAreWellSorted = (vars : List Sort) (s : Sort) (t : Term) → sort_of t ≡ Some s → StandAmong vars t → IsTerm Any vars s t
