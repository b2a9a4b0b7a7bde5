use Rattle.std.proofs.Common.{◌≡◌, drop, map}
use Rattle.vd_sized.specs.Sorts.{are_sorts, sort_of}
use Rattle.vd_sized.proofs.sorts.+sort.Given as goal

-- what is left has the sorts that are left exactly where all have all
abbrev pub invariant-have_sorts-loop-term : goal.invariant-have_sorts-loop-term
invariant-have_sorts-loop-term l = are_sorts (drop l.term-index (map sort_of l.terms)) l.rest ≡ are_sorts (map sort_of l.terms) l.wanted
