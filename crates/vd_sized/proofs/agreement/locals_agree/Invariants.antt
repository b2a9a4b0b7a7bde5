use Rattle.std.proofs.Common.{◌≡◌, drop}
use Rattle.std.specs.List.{list_all}
use Rattle.vd_logic.specs.declared.term.Sort.TheVariants as sort
use Rattle.vd_sized.specs.Sorts.{is_of}
use Rattle.vd_sized.proofs.agreement.locals_agree.Given as goal

-- those left agree exactly where all do
abbrev pub invariant-loop-local : goal.invariant-loop-local
invariant-loop-local l = list_all (λ x. is_of sort.Val x.1) (drop l.local-index l.locals) ≡ list_all (λ x. is_of sort.Val x.1) l.locals
