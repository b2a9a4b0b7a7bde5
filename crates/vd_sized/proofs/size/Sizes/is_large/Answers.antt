use Rattle.std.proofs.Common.{ltb, refl, sym, subst, IsTrue}
use Rattle.std.specs.Prelude.{◌↔◌}
use Rattle.vd_base.specs.Layout.{most_cells}
use Rattle.vd_sized.specs.Cells.{HasCells, HaveCells, IsLarge}
use Rattle.vd_sized.specs.Counts.{CountsSome}
use Rattle.vd_sized.specs.Sizes.{SomeWaits, Waits}
use Rattle.vd_sized.proofs.Derivations.{same_cells, same_together}
use Rattle.vd_sized.proofs.Settling.{match_some, match_none, no_together, is_over}
use Rattle.vd_sized.proofs.size.Sizes.is_large.Goals as goal

pub returns-in-Some : goal.returns-in-Some
returns-in-Some c =
    let parts = c.args.view.now.parts.now in let own = c.args.view.now.own in let fields = c.as_slice.result.now in let most = c.args.self.now.most in let cells = c.in-Some.cells in
    let h : CountsSome most (HaveCells parts own fields) cells = match_some (SomeWaits c.args.view.now c.args.self.now fields) (CountsSome most (HaveCells parts own fields)) c.in_ok-cells-in-Struct.field-0 cells c.in-Some.is c.in_ok-cells-in-Struct.ensures in
    let k : CountsSome most (HaveCells parts own c.in-Struct.fields) cells = subst (λ fs. CountsSome most (HaveCells parts own fs) cells) c.as_slice.ensures h in
    subst (λ x. IsTrue (ltb most_cells cells.count) ↔ IsLarge parts own x) (sym c.in-Struct.is)
    (is_over (HaveCells parts own c.in-Struct.fields) (λ ts us a b. same_together parts own c.requires.one a b) most cells k (ltb most_cells cells.count) refl)

pub returns-in-None : goal.returns-in-None
returns-in-None c =
    let parts = c.args.view.now.parts.now in let own = c.args.view.now.own in let fields = c.as_slice.result.now in let most = c.args.self.now.most in
    let w : SomeWaits c.args.view.now c.args.self.now fields = match_none (SomeWaits c.args.view.now c.args.self.now fields) (CountsSome most (HaveCells parts own fields)) c.in_ok-cells-in-Struct.field-0 c.in-None.is c.in_ok-cells-in-Struct.ensures in
    let v : SomeWaits c.args.view.now c.args.self.now c.in-Struct.fields = subst (SomeWaits c.args.view.now c.args.self.now) c.as_slice.ensures w in
    (λ t. subst (IsLarge parts own) (sym c.in-Struct.is) (λ ts d le. no_together c.args.view.now c.args.self.now c.requires.sizes.all d v), λ l. refl)

pub returns-in-Some-2 : goal.returns-in-Some-2
returns-in-Some-2 c =
    let parts = c.args.view.now.parts.now in let own = c.args.view.now.own in let t = c.in-Global.field.typ in let most = c.args.self.now.most in let cells = c.in-Some-2.cells in
    let h : CountsSome most (HasCells parts own t) cells = match_some (Waits c.args.view.now c.args.self.now t) (CountsSome most (HasCells parts own t)) c.in_ok-cells-in-Global.field-0 cells c.in-Some-2.is c.in_ok-cells-in-Global.ensures in
    subst (λ x. IsTrue (ltb most_cells cells.count) ↔ IsLarge parts own x) (sym c.in-Global.is)
    (is_over (HasCells parts own t) (λ ts us a b. same_cells parts own c.requires.one a b) most cells h (ltb most_cells cells.count) refl)
