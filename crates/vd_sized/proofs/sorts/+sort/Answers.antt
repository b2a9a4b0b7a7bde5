use Rattle.std.proofs.Common.{length, get_or, rules, ap, ◌∙◌, true, false, arith}
use Rattle.std.proofs.lemmas.List.{nil_from_length}
use Rattle.vd_sized.specs.Sorts.{is_sort}
use Rattle.vd_sized.proofs.SortLaws.{sort_of-Num, sort_of-Var, sort_of-Named, sort_of-Global, application, fits_on, fits_not, one_too_many}
use Rattle.vd_sized.proofs.sorts.+sort.Goals as goal

pub sort_of-returns-in-Num : goal.sort_of-returns-in-Num
sort_of-returns-in-Num t c = search (rules, sort_of-Num)

pub sort_of-returns-in-Var : goal.sort_of-returns-in-Var
sort_of-returns-in-Var t c = search (rules, sort_of-Var)

pub sort_of-returns-in-Named : goal.sort_of-returns-in-Named
sort_of-returns-in-Named t c = search (rules, sort_of-Named)

pub sort_of-returns-in-Global : goal.sort_of-returns-in-Global
sort_of-returns-in-Global t c = search (rules, sort_of-Global)

pub sort_of-returns-then-have_sorts : goal.sort_of-returns-then-have_sorts
sort_of-returns-then-have_sorts t c =
    application c.args.term.now c.in-App.op c.in-App.args c.signature-given.result.0.now c.signature-given.result.1 true c.in-App.is c.signature-given.ensures.args c.signature-given.ensures.given c.if-have_sorts.ensures

pub sort_of-returns-else-have_sorts : goal.sort_of-returns-else-have_sorts
sort_of-returns-else-have_sorts t c =
    application c.args.term.now c.in-App.op c.in-App.args c.signature-given.result.0.now c.signature-given.result.1 false c.in-App.is c.signature-given.ensures.args c.signature-given.ensures.given c.if-have_sorts.ensures

pub have_sorts-returns-then-not-is_sort : goal.have_sorts-returns-then-not-is_sort
have_sorts-returns-then-not-is_sort t c =
    let e = c.as_slice-term-items.ensures in
    fits_not c.args.terms.now c.loop-term.term-index c.term-item.result (omega (arith, ap length e)) (c.term-item.is ∙ ap (λ xs. get_or xs c.loop-term.term-index c.term-item.result) e)
    c.loop-term.rest.now c.in-Some.others.now c.in-Some.sort.now _ c.in-Some.ensures.cases.0 (c.if-not-is_sort.ensures ∙ ap (λ s. is_sort s c.in-Some.sort.now) c.sort_of.ensures) c.loop-term.invariant

pub have_sorts-returns-in-None : goal.have_sorts-returns-in-None
have_sorts-returns-in-None t c =
    let e = c.as_slice-term-items.ensures in
    one_too_many c.args.terms.now c.loop-term.term-index c.term-item.result (omega (arith, ap length e)) (c.term-item.is ∙ ap (λ xs. get_or xs c.loop-term.term-index c.term-item.result) e)
    c.loop-term.rest.now _ (nil_from_length c.loop-term.rest.now c.in-None.ensures.cases) c.loop-term.invariant

pub have_sorts-loop-term-preserved : goal.have_sorts-loop-term-preserved
have_sorts-loop-term-preserved t c =
    let e = c.as_slice-term-items.ensures in
    fits_on c.args.terms.now c.loop-term.term-index c.term-item.result (omega (arith, ap length e)) (c.term-item.is ∙ ap (λ xs. get_or xs c.loop-term.term-index c.term-item.result) e)
    c.loop-term.rest.now c.in-Some.others.now c.in-Some.sort.now _ c.in-Some.ensures.cases.0 (c.if-not-is_sort.ensures ∙ ap (λ s. is_sort s c.in-Some.sort.now) c.sort_of.ensures) c.loop-term.invariant
