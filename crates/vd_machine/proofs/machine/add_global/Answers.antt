use Rattle.std.proofs.Common.{◌≡◌, ◌≤◌, ◌<◌, length, get_or, ◌∙◌, ap, subst, arith}
use Rattle.vd_mem.specs.declared.value.Cell.TheVariants.{Data}
use Rattle.vd_mem.specs.Memory.{put}
use Rattle.vd_machine.specs.Step.{room}
use Rattle.vd_machine.proofs.Globals.{partly_more}
use Rattle.vd_machine.proofs.machine.add_global.Goals as goal
use Rattle.vd_machine.proofs.machine.add_global.Goals.{then-g-lt1, else-g-lt1}

pub loop-offset-preserved : goal.loop-offset-preserved
loop-offset-preserved c =
    let a = c.args in
    let same : c.as_slice-init-items.result.now ≡ a.g.now.init = c.as_slice-init-items.ensures in
    let l : c.loop-offset.offset < length a.g.now.init = subst (λ xs. c.loop-offset.offset < length xs) same c.loop-offset-test.true in
    let e : c.init-item.result ≡ get_or a.g.now.init c.loop-offset.offset c.init-item.result = subst (λ xs. c.init-item.result ≡ get_or xs c.loop-offset.offset c.init-item.result) same c.init-item.is in
    let fits : length a.g.now.init ≤ room a.g.now.cells = elim c.if-g-lt1.branch [ then-g-lt1 w ↦ omega arith | else-g-lt1 w ↦ omega arith ] in
    partly_more a.globals.now a.g.now a.memory.now c.loop-offset.memory c.set.new.self c.loop-offset.offset c.in_ok-block.block c.init-item.result l fits e
    c.in_ok-block.ensures.number c.loop-offset.invariant
    (c.in_ok-set.ensures.ok ∙ ap (λ v. put c.loop-offset.memory c.in_ok-block.block c.loop-offset.offset (Data v)) c.init_value-value.ensures)
