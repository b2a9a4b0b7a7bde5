use Rattle.std.proofs.Common.{◌≡◌, ◌+◌, true, false, refl, sym, ◌∙◌, drop, map}
use Rattle.vd_sized.proofs.Pairs.{unfit_here, unfit_on, unfit_nowhere, no_unfit_left, cell_left, cells_missing}
use Rattle.vd_sized.proofs.initial.are_unfit.Goals as goal

no : false ≡ true → ⊥
no e = cc

pub returns-then-is_unfit : goal.returns-then-is_unfit
returns-then-is_unfit c =
    let ts = map (λ t. t.now) c.args.cells.now in (
      λ t. unfit_here c.args.view.now.parts.now c.args.view.now.own c.args.values.now ts (drop c.loop-at.at ts) c.loop-at.at c.index-values-at.result c.loop-at-test.true c.index-values-at.is c.loop-at.invariant
          c.in-Some.cell.now.now (drop (c.loop-at.at + 1) ts) (cell_left c.args.cells.now c.loop-at.at c.in-Some.cell.now c.in-Some.ensures.value) (c.is_unfit.ensures.0 c.if-is_unfit.true),
      λ u. refl,
    )

pub returns-in-None : goal.returns-in-None
returns-in-None c =
    let ts = map (λ t. t.now) c.args.cells.now in (
      λ t. absurd (no t),
      λ u. absurd (unfit_nowhere c.args.view.now.parts.now c.args.view.now.own c.args.values.now ts (drop c.loop-at.at ts) c.loop-at.at c.index-values-at.result c.loop-at-test.true c.index-values-at.is c.loop-at.invariant
          (cells_missing c.args.cells.now c.loop-at.at c.in-None.ensures.value) u),
    )

pub loop-at-preserved : goal.loop-at-preserved
loop-at-preserved c =
    let ts = map (λ t. t.now) c.args.cells.now in
    unfit_on c.args.view.now.parts.now c.args.view.now.own c.args.values.now ts (drop c.loop-at.at ts) c.loop-at.at c.index-values-at.result c.loop-at-test.true c.index-values-at.is c.loop-at.invariant
    c.in-Some.cell.now.now (drop (c.loop-at.at + 1) ts) (cell_left c.args.cells.now c.loop-at.at c.in-Some.cell.now c.in-Some.ensures.value) (λ u. no (sym c.if-is_unfit.false ∙ c.is_unfit.ensures.1 u))

pub returns : goal.returns
returns c =
    let ts = map (λ t. t.now) c.args.cells.now in
    (λ t. absurd (no t), λ u. absurd (no_unfit_left c.args.view.now.parts.now c.args.view.now.own c.args.values.now ts (drop c.loop-at.at ts) c.loop-at.at c.loop-at-test.false c.loop-at.invariant u))
