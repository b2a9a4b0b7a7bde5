-- Well-sorted terms, and the sort that is computed of a term.
use Rattle.std.proofs.Common.{◌≡◌, Bool, true, false, ◌&&◌, Option, Some, None, refl, sym, ap, ◌∙◌}
use Rattle.std.proofs.lemmas.Bool.{and_parts, and_from}
use Rattle.vd_logic.specs.declared.term.Sort.{Sort}
use Rattle.vd_logic.specs.declared.term.Sort.TheVariants as sort
use Rattle.vd_terms.specs.declared.operation.Unary.{Unary}
use Rattle.vd_terms.specs.declared.operation.Unary.TheVariants as unary
use Rattle.vd_terms.specs.Terms.{Term, Number, Var, Named, Global, Undef, Nil, Of, Of2, Of3}
use Rattle.vd_terms.specs.Sorts.{same_sort, unary_sorts, binary_sorts, ternary_sorts, is_of, sorted, sort_of}
use Rattle.vd_terms.specs.Typed.{Any, ClosedIs}
use Rattle.vd_terms.specs.TypedLaws.{WellSortedHaveSort, SortedAreWellSorted}

-- the number of a closed vi is free
pub closed-any : (o : Unary) (a : Term) → ClosedIs Any o a
closed-any unary.Len a = tt
closed-any unary.Sum a = tt
closed-any unary.Num a = tt
closed-any unary.Unum a = tt
closed-any unary.Rev a = tt
closed-any unary.Vi (Number n) = tt
closed-any unary.Vi a = tt

same_sort-itself : (s : Sort) → same_sort s s ≡ true
same_sort-itself sort.Int = refl
same_sort-itself sort.Val = refl
same_sort-itself sort.List = refl

same_sort-is : (s r : Sort) → same_sort s r ≡ true → s ≡ r
same_sort-is sort.Int sort.Int h = refl
same_sort-is sort.Val sort.Val h = refl
same_sort-is sort.List sort.List h = refl
same_sort-is s r h = cc

-- an argument is of the wanted sort exactly where that is its sort
of-from : (s : Sort) (o : Option Sort) → o ≡ Some s → is_of s o ≡ true
of-from s o h = ap (is_of s) h ∙ same_sort-itself s

of-is : (s : Sort) (o : Option Sort) → is_of s o ≡ true → o ≡ Some s
of-is s None h = cc
of-is s (Some r) h = ap Some (sym (same_sort-is s r h))

sorted-from : (b : Bool) (r s : Sort) → b ≡ true → s ≡ r → sorted b r ≡ Some s
sorted-from b r s h e = ap (λ c. sorted c r) h ∙ ap Some (sym e)

some-sort : {r s : Sort} → Some r ≡ Some s → s ≡ r
some-sort e = cc

no-sort : {s : Sort} → None ≡ Some s → ⊥
no-sort e = cc

sorted-is : (b : Bool) (r s : Sort) → sorted b r ≡ Some s → (b ≡ true) × (s ≡ r)
sorted-is true r s h = (refl, some-sort h)
sorted-is false r s h = absurd (no-sort h)

pub well_sorted_have_sort : WellSortedHaveSort
well_sorted_have_sort vars s (Number n) h = (ap Some (sym h), tt)
well_sorted_have_sort vars s (Var x r) h = (ap Some (sym h.0), h.1)
well_sorted_have_sort vars s (Named name) h = absurd h
well_sorted_have_sort vars s (Global g) h = (ap Some (sym h), tt)
well_sorted_have_sort vars s Undef h = (ap Some (sym h), tt)
well_sorted_have_sort vars s Nil h = (ap Some (sym h), tt)
well_sorted_have_sort vars s (Of o a) h =
    let p = well_sorted_have_sort vars (unary_sorts o).0 a h.1.0 in
    (sorted-from (is_of (unary_sorts o).0 (sort_of a)) (unary_sorts o).1 s (of-from (unary_sorts o).0 (sort_of a) p.0) h.0, p.1)
well_sorted_have_sort vars s (Of2 o a b) h =
    let p = well_sorted_have_sort vars (binary_sorts o).0 a h.1.0 in
    let q = well_sorted_have_sort vars (binary_sorts o).1 b h.1.1 in (
      sorted-from (is_of (binary_sorts o).0 (sort_of a) && is_of (binary_sorts o).1 (sort_of b)) (binary_sorts o).2 s
          (and_from (is_of (binary_sorts o).0 (sort_of a)) (is_of (binary_sorts o).1 (sort_of b))
          (of-from (binary_sorts o).0 (sort_of a) p.0) (of-from (binary_sorts o).1 (sort_of b) q.0)) h.0,
      (p.1, q.1),
    )
well_sorted_have_sort vars s (Of3 o a b c) h =
    let p = well_sorted_have_sort vars (ternary_sorts o).0 a h.1.0 in
    let q = well_sorted_have_sort vars (ternary_sorts o).1 b h.1.1.0 in
    let r = well_sorted_have_sort vars (ternary_sorts o).2 c h.1.1.1 in (
      sorted-from (is_of (ternary_sorts o).0 (sort_of a) && (is_of (ternary_sorts o).1 (sort_of b) && is_of (ternary_sorts o).2 (sort_of c))) (ternary_sorts o).3 s
          (and_from (is_of (ternary_sorts o).0 (sort_of a)) (is_of (ternary_sorts o).1 (sort_of b) && is_of (ternary_sorts o).2 (sort_of c))
          (of-from (ternary_sorts o).0 (sort_of a) p.0)
          (and_from (is_of (ternary_sorts o).1 (sort_of b)) (is_of (ternary_sorts o).2 (sort_of c))
          (of-from (ternary_sorts o).1 (sort_of b) q.0) (of-from (ternary_sorts o).2 (sort_of c) r.0))) h.0,
      (p.1, (q.1, r.1)),
    )

pub sorted_are_well_sorted : SortedAreWellSorted
sorted_are_well_sorted vars s (Number n) h v = some-sort h
sorted_are_well_sorted vars s (Var x r) h v = (some-sort h, v)
sorted_are_well_sorted vars s (Named name) h v = no-sort h
sorted_are_well_sorted vars s (Global g) h v = some-sort h
sorted_are_well_sorted vars s Undef h v = some-sort h
sorted_are_well_sorted vars s Nil h v = some-sort h
sorted_are_well_sorted vars s (Of o a) h v =
    let e = sorted-is (is_of (unary_sorts o).0 (sort_of a)) (unary_sorts o).1 s h in
    (e.1, (sorted_are_well_sorted vars (unary_sorts o).0 a (of-is (unary_sorts o).0 (sort_of a) e.0) v, closed-any o a))
sorted_are_well_sorted vars s (Of2 o a b) h v =
    let e = sorted-is (is_of (binary_sorts o).0 (sort_of a) && is_of (binary_sorts o).1 (sort_of b)) (binary_sorts o).2 s h in
    let p = and_parts (is_of (binary_sorts o).0 (sort_of a)) (is_of (binary_sorts o).1 (sort_of b)) e.0 in (
      e.1,
      (
        sorted_are_well_sorted vars (binary_sorts o).0 a (of-is (binary_sorts o).0 (sort_of a) p.0) v.0,
        sorted_are_well_sorted vars (binary_sorts o).1 b (of-is (binary_sorts o).1 (sort_of b) p.1) v.1,
      ),
    )
sorted_are_well_sorted vars s (Of3 o a b c) h v =
    let e = sorted-is (is_of (ternary_sorts o).0 (sort_of a) && (is_of (ternary_sorts o).1 (sort_of b) && is_of (ternary_sorts o).2 (sort_of c))) (ternary_sorts o).3 s h in
    let p = and_parts (is_of (ternary_sorts o).0 (sort_of a)) (is_of (ternary_sorts o).1 (sort_of b) && is_of (ternary_sorts o).2 (sort_of c)) e.0 in
    let q = and_parts (is_of (ternary_sorts o).1 (sort_of b)) (is_of (ternary_sorts o).2 (sort_of c)) p.1 in (
      e.1,
      (
        sorted_are_well_sorted vars (ternary_sorts o).0 a (of-is (ternary_sorts o).0 (sort_of a) p.0) v.0,
        (
          sorted_are_well_sorted vars (ternary_sorts o).1 b (of-is (ternary_sorts o).1 (sort_of b) q.0) v.1.0,
          sorted_are_well_sorted vars (ternary_sorts o).2 c (of-is (ternary_sorts o).2 (sort_of c) q.1) v.1.1,
        ),
      ),
    )
