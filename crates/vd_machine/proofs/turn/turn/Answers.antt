use Rattle.std.proofs.Common.{rules, ◌≡◌, ◌<◌, length, get_or, slice_set, map, Some, None, sym, ◌∙◌, ap, subst, arith}
use Rattle.std.proofs.lemmas.Bool.{false≢true}
use Rattle.std.specs.Prelude.{slice_get}
use Rattle.vd_machine.specs.Allocation.{thread_takes_memory, thread_spawns}
use Rattle.vd_machine.specs.Kept.{step_by, thread_of, slot_of, Keeps}
use Rattle.vd_machine.specs.Room.{AreReady, IsReady, IsNewReady}
use Rattle.vd_machine.specs.Run.{Next, turn}
use Rattle.vd_machine.specs.Turns.{system_of}
use Rattle.vd_machine.proofs.Turns.{turn_ended, turn_moved, turn_blocked, turn_wrong, turn_over, turn_forked, stays, on_err, slot_at}
use Rattle.vd_machine.proofs.Rooms.{ready_at, ready_set}
use Rattle.vd_machine.proofs.Spawning.{forked_spawns}
use Rattle.vd_machine.proofs.turn.turn.Goals as goal

pub returns-in-Moved-clause-ok : goal.returns-in-Moved-clause-ok
returns-in-Moved-clause-ok c =
    let a = c.args in
    let xs = c.make_room.new.threads.items in
    let m = a.memory.now in
    let t = c.in-Some.thread in
    let u = c.advance.new.thread in
    let same : xs ≡ a.threads.now.items = c.make_room.ensures.items in
    let l : a.number < length xs = first_of (omega arith, search rules) in
    let at : Some t ≡ get_or xs a.number (Some t) = subst (λ y. y ≡ get_or xs a.number y) c.in-Some.is c.index_mut.ensures.value in
    let back : turn a.program.now a.number a.pick (system_of xs m) ≡ turn a.program.now a.number a.pick (system_of a.threads.now.items m) = ap (λ ys. turn a.program.now a.number a.pick (system_of ys m)) same in
    let d = c.in_ok-did-in-Some.ensures.ok in
    let h = sym (ap (λ x. step_by x u c.advance.new.memory) c.in-Moved.is) ∙ d.is in
    turn_moved a.program.now a.number a.pick xs m c.advance.new.memory t u l at h ∙ back

pub returns-in-Blocked-clause-ok : goal.returns-in-Blocked-clause-ok
returns-in-Blocked-clause-ok c =
    let a = c.args in
    let xs = c.make_room.new.threads.items in
    let m = a.memory.now in
    let t = c.in-Some.thread in
    let u = c.advance.new.thread in
    let same : xs ≡ a.threads.now.items = c.make_room.ensures.items in
    let l : a.number < length xs = first_of (omega arith, search rules) in
    let at : Some t ≡ get_or xs a.number (Some t) = subst (λ y. y ≡ get_or xs a.number y) c.in-Some.is c.index_mut.ensures.value in
    let back : turn a.program.now a.number a.pick (system_of xs m) ≡ turn a.program.now a.number a.pick (system_of a.threads.now.items m) = ap (λ ys. turn a.program.now a.number a.pick (system_of ys m)) same in
    let d = c.in_ok-did-in-Some.ensures.ok in
    let h = sym (ap (λ x. step_by x u c.advance.new.memory) c.in-Blocked.is) ∙ d.is in
    turn_blocked a.program.now a.number a.pick xs m t l at h ∙ back

pub returns-in-Blocked-clause-leaves : goal.returns-in-Blocked-clause-leaves
returns-in-Blocked-clause-leaves c =
    let a = c.args in
    let xs = c.make_room.new.threads.items in
    let m = a.memory.now in
    let t = c.in-Some.thread in
    let u = c.advance.new.thread in
    let same : xs ≡ a.threads.now.items = c.make_room.ensures.items in
    let l : a.number < length xs = first_of (omega arith, search rules) in
    let at : Some t ≡ get_or xs a.number (Some t) = subst (λ y. y ≡ get_or xs a.number y) c.in-Some.is c.index_mut.ensures.value in
    let back : turn a.program.now a.number a.pick (system_of xs m) ≡ turn a.program.now a.number a.pick (system_of a.threads.now.items m) = ap (λ ys. turn a.program.now a.number a.pick (system_of ys m)) same in
    let d = c.in_ok-did-in-Some.ensures.ok in
    let k = subst (λ x. Keeps x (thread_of u ≡ thread_of t) (c.advance.new.memory ≡ m)) c.in-Blocked.is d.keeps in
    stays xs a.number m c.advance.new.memory t u l at k.0 k.1 ∙ ap (λ ys. system_of ys m) same

pub returns-in-Wrong-clause-ok : goal.returns-in-Wrong-clause-ok
returns-in-Wrong-clause-ok c =
    let a = c.args in
    let xs = c.make_room.new.threads.items in
    let m = a.memory.now in
    let t = c.in-Some.thread in
    let u = c.advance.new.thread in
    let same : xs ≡ a.threads.now.items = c.make_room.ensures.items in
    let l : a.number < length xs = first_of (omega arith, search rules) in
    let at : Some t ≡ get_or xs a.number (Some t) = subst (λ y. y ≡ get_or xs a.number y) c.in-Some.is c.index_mut.ensures.value in
    let back : turn a.program.now a.number a.pick (system_of xs m) ≡ turn a.program.now a.number a.pick (system_of a.threads.now.items m) = ap (λ ys. turn a.program.now a.number a.pick (system_of ys m)) same in
    let d = c.in_ok-did-in-Some.ensures.ok in
    let h = sym (ap (λ x. step_by x u c.advance.new.memory) c.in-Wrong.is) ∙ d.is in
    turn_wrong a.program.now a.number a.pick xs m t c.in-Wrong.cause l at h ∙ back

pub returns-in-Wrong-clause-leaves : goal.returns-in-Wrong-clause-leaves
returns-in-Wrong-clause-leaves c =
    let a = c.args in
    let xs = c.make_room.new.threads.items in
    let m = a.memory.now in
    let t = c.in-Some.thread in
    let u = c.advance.new.thread in
    let same : xs ≡ a.threads.now.items = c.make_room.ensures.items in
    let l : a.number < length xs = first_of (omega arith, search rules) in
    let at : Some t ≡ get_or xs a.number (Some t) = subst (λ y. y ≡ get_or xs a.number y) c.in-Some.is c.index_mut.ensures.value in
    let back : turn a.program.now a.number a.pick (system_of xs m) ≡ turn a.program.now a.number a.pick (system_of a.threads.now.items m) = ap (λ ys. turn a.program.now a.number a.pick (system_of ys m)) same in
    let d = c.in_ok-did-in-Some.ensures.ok in
    let k = subst (λ x. Keeps x (thread_of u ≡ thread_of t) (c.advance.new.memory ≡ m)) c.in-Wrong.is d.keeps in
    stays xs a.number m c.advance.new.memory t u l at k.0 k.1 ∙ ap (λ ys. system_of ys m) same

pub returns-else-at-eq0-clause-ok : goal.returns-else-at-eq0-clause-ok
returns-else-at-eq0-clause-ok c =
    let a = c.args in
    let xs = c.make_room.new.threads.items in
    let m = a.memory.now in
    let t = c.in-Some.thread in
    let u = c.advance.new.thread in
    let same : xs ≡ a.threads.now.items = c.make_room.ensures.items in
    let l : a.number < length xs = first_of (omega arith, search rules) in
    let at : Some t ≡ get_or xs a.number (Some t) = subst (λ y. y ≡ get_or xs a.number y) c.in-Some.is c.index_mut.ensures.value in
    let back : turn a.program.now a.number a.pick (system_of xs m) ≡ turn a.program.now a.number a.pick (system_of a.threads.now.items m) = ap (λ ys. turn a.program.now a.number a.pick (system_of ys m)) same in
    let d = c.in_ok-did-in-Some.ensures.ok in
    let h = sym (ap (λ x. step_by x u c.advance.new.memory) c.in-Over.is) ∙ d.is in
    let k = subst (λ x. Keeps x (thread_of u ≡ thread_of t) (c.advance.new.memory ≡ m)) c.in-Over.is d.keeps in
    ap (λ o. Next (system_of (slice_set (slice_set xs a.number (Some u)) a.number o) c.advance.new.memory)) c.end.ensures
    ∙ turn_over a.program.now a.number a.pick xs m c.advance.new.memory t u c.in-Over.value l at h k c.if-at-eq0.false ∙ back

pub returns-in-Forked-clause-ok : goal.returns-in-Forked-clause-ok
returns-in-Forked-clause-ok c =
    let a = c.args in
    let xs = c.make_room.new.threads.items in
    let m = a.memory.now in
    let t = c.in-Some.thread in
    let u = c.advance.new.thread in
    let same : xs ≡ a.threads.now.items = c.make_room.ensures.items in
    let l : a.number < length xs = first_of (omega arith, search rules) in
    let at : Some t ≡ get_or xs a.number (Some t) = subst (λ y. y ≡ get_or xs a.number y) c.in-Some.is c.index_mut.ensures.value in
    let back : turn a.program.now a.number a.pick (system_of xs m) ≡ turn a.program.now a.number a.pick (system_of a.threads.now.items m) = ap (λ ys. turn a.program.now a.number a.pick (system_of ys m)) same in
    let d = c.in_ok-did-in-Some.ensures.ok in
    let h = sym (ap (λ x. step_by x u c.advance.new.memory) c.in-Forked.is) ∙ d.is in
    turn_forked a.program.now a.number a.pick xs c.add.new.threads.items m c.advance.new.memory t u c.in-Forked.thread l at h c.add.ensures.items ∙ back

pub returns-in-None-clause-ok : goal.returns-in-None-clause-ok
returns-in-None-clause-ok c =
    let a = c.args in
    let xs = c.make_room.new.threads.items in
    let m = a.memory.now in
    let same : xs ≡ a.threads.now.items = c.make_room.ensures.items in
    let l : a.number < length xs = first_of (omega arith, search rules) in
    turn_ended a.program.now a.number a.pick xs m l (subst (λ y. y ≡ get_or xs a.number y) c.in-None.is c.index_mut.ensures.value)
    ∙ ap (λ ys. turn a.program.now a.number a.pick (system_of ys m)) same

pub returns-in_err-did-in-Some-clause-err : goal.returns-in_err-did-in-Some-clause-err
returns-in_err-did-in-Some-clause-err c =
    let a = c.args in
    let xs = c.make_room.new.threads.items in
    let m = a.memory.now in
    let t = c.in-Some.thread in
    let u = c.advance.new.thread in
    let same : xs ≡ a.threads.now.items = c.make_room.ensures.items in
    let l : a.number < length xs = first_of (omega arith, search rules) in
    let at : Some t ≡ get_or xs a.number (Some t) = subst (λ y. y ≡ get_or xs a.number y) c.in-Some.is c.index_mut.ensures.value in
    let back : turn a.program.now a.number a.pick (system_of xs m) ≡ turn a.program.now a.number a.pick (system_of a.threads.now.items m) = ap (λ ys. turn a.program.now a.number a.pick (system_of ys m)) same in
    on_err c.from_residual-in_err-did-in-Some.result (system_of (slice_set xs a.number (Some u)) c.advance.new.memory ≡ system_of a.threads.now.items m)
    (stays xs a.number m c.advance.new.memory t u l at c.in_err-did-in-Some.ensures.err.thread c.in_err-did-in-Some.ensures.err.blocks ∙ ap (λ ys. system_of ys m) same)

pub advance-requires-clause-ready : goal.advance-requires-clause-ready
advance-requires-clause-ready c =
    let a = c.args in
    let xs = c.make_room.new.threads.items in
    let m = a.memory.now in
    let t = c.in-Some.thread in
    let same : xs ≡ a.threads.now.items = c.make_room.ensures.items in
    let l : a.number < length xs = first_of (omega arith, search rules) in
    let at : Some t ≡ get_or xs a.number (Some t) = subst (λ y. y ≡ get_or xs a.number y) c.in-Some.is c.index_mut.ensures.value in
    let ready : AreReady xs = subst AreReady (sym same) c.requires.ready in
    ready_at xs a.number (Some t) l at ready

pub returns-in_err-did-in-Some-clause-ready : goal.returns-in_err-did-in-Some-clause-ready
returns-in_err-did-in-Some-clause-ready c =
    let a = c.args in
    let xs = c.make_room.new.threads.items in
    let m = a.memory.now in
    let t = c.in-Some.thread in
    let u = c.advance.new.thread in
    let same : xs ≡ a.threads.now.items = c.make_room.ensures.items in
    let l : a.number < length xs = first_of (omega arith, search rules) in
    let at : Some t ≡ get_or xs a.number (Some t) = subst (λ y. y ≡ get_or xs a.number y) c.in-Some.is c.index_mut.ensures.value in
    let ready : AreReady xs = subst AreReady (sym same) c.requires.ready in
    ready_set xs a.number (Some u) ready c.advance.ensures.ready

pub returns-in_err-did-in-Some-clause-no_memory : goal.returns-in_err-did-in-Some-clause-no_memory
returns-in_err-did-in-Some-clause-no_memory c = λ q.
    let a = c.args in
    let xs = c.make_room.new.threads.items in
    let m = a.memory.now in
    let t = c.in-Some.thread in
    let u = c.advance.new.thread in
    let same : xs ≡ a.threads.now.items = c.make_room.ensures.items in
    let l : a.number < length xs = first_of (omega arith, search rules) in
    let at : Some t ≡ get_or xs a.number (Some t) = subst (λ y. y ≡ get_or xs a.number y) c.in-Some.is c.index_mut.ensures.value in
    let ready : AreReady xs = subst AreReady (sym same) c.requires.ready in
    let slot : slice_get (map slot_of a.threads.now.items) a.number ≡ Some (thread_of t) = ap (λ ys. slice_get (map slot_of ys) a.number) (sym same) ∙ slot_at xs a.number (Some t) l at in
    absurd (false≢true (c.in_err-did-in-Some.ensures.no_memory (ap thread_takes_memory (sym slot) ∙ q)))

pub add-requires : goal.add-requires
add-requires c =
    let a = c.args in
    let xs = c.make_room.new.threads.items in
    let m = a.memory.now in
    let t = c.in-Some.thread in
    let u = c.advance.new.thread in
    let same : xs ≡ a.threads.now.items = c.make_room.ensures.items in
    let l : a.number < length xs = first_of (omega arith, search rules) in
    let at : Some t ≡ get_or xs a.number (Some t) = subst (λ y. y ≡ get_or xs a.number y) c.in-Some.is c.index_mut.ensures.value in
    let ready : AreReady xs = subst AreReady (sym same) c.requires.ready in
    let d = c.in_ok-did-in-Some.ensures.ok in
    let h = sym (ap (λ x. step_by x u c.advance.new.memory) c.in-Forked.is) ∙ d.is in
    let slot : slice_get (map slot_of a.threads.now.items) a.number ≡ Some (thread_of t) = ap (λ ys. slice_get (map slot_of ys) a.number) (sym same) ∙ slot_at xs a.number (Some t) l at in
    c.in_ok-make_room.ensures.room (ap thread_spawns slot ∙ forked_spawns a.program.now a.pick (thread_of t) m c.advance.new.memory (thread_of u) (thread_of c.in-Forked.thread) h)

pub returns-in-Moved-clause-ready : goal.returns-in-Moved-clause-ready
returns-in-Moved-clause-ready c =
    let a = c.args in
    let xs = c.make_room.new.threads.items in
    let m = a.memory.now in
    let t = c.in-Some.thread in
    let u = c.advance.new.thread in
    let same : xs ≡ a.threads.now.items = c.make_room.ensures.items in
    let l : a.number < length xs = first_of (omega arith, search rules) in
    let at : Some t ≡ get_or xs a.number (Some t) = subst (λ y. y ≡ get_or xs a.number y) c.in-Some.is c.index_mut.ensures.value in
    let ready : AreReady xs = subst AreReady (sym same) c.requires.ready in
    ready_set xs a.number (Some u) ready c.advance.ensures.ready

pub returns-in-Blocked-clause-ready : goal.returns-in-Blocked-clause-ready
returns-in-Blocked-clause-ready c =
    let a = c.args in
    let xs = c.make_room.new.threads.items in
    let m = a.memory.now in
    let t = c.in-Some.thread in
    let u = c.advance.new.thread in
    let same : xs ≡ a.threads.now.items = c.make_room.ensures.items in
    let l : a.number < length xs = first_of (omega arith, search rules) in
    let at : Some t ≡ get_or xs a.number (Some t) = subst (λ y. y ≡ get_or xs a.number y) c.in-Some.is c.index_mut.ensures.value in
    let ready : AreReady xs = subst AreReady (sym same) c.requires.ready in
    ready_set xs a.number (Some u) ready c.advance.ensures.ready

pub returns-in-Wrong-clause-ready : goal.returns-in-Wrong-clause-ready
returns-in-Wrong-clause-ready c =
    let a = c.args in
    let xs = c.make_room.new.threads.items in
    let m = a.memory.now in
    let t = c.in-Some.thread in
    let u = c.advance.new.thread in
    let same : xs ≡ a.threads.now.items = c.make_room.ensures.items in
    let l : a.number < length xs = first_of (omega arith, search rules) in
    let at : Some t ≡ get_or xs a.number (Some t) = subst (λ y. y ≡ get_or xs a.number y) c.in-Some.is c.index_mut.ensures.value in
    let ready : AreReady xs = subst AreReady (sym same) c.requires.ready in
    ready_set xs a.number (Some u) ready c.advance.ensures.ready

pub returns-else-at-eq0-clause-ready : goal.returns-else-at-eq0-clause-ready
returns-else-at-eq0-clause-ready c =
    let a = c.args in
    let xs = c.make_room.new.threads.items in
    let m = a.memory.now in
    let t = c.in-Some.thread in
    let u = c.advance.new.thread in
    let same : xs ≡ a.threads.now.items = c.make_room.ensures.items in
    let l : a.number < length xs = first_of (omega arith, search rules) in
    let at : Some t ≡ get_or xs a.number (Some t) = subst (λ y. y ≡ get_or xs a.number y) c.in-Some.is c.index_mut.ensures.value in
    let ready : AreReady xs = subst AreReady (sym same) c.requires.ready in
    subst (λ o. AreReady (slice_set (slice_set xs a.number (Some u)) a.number o)) (sym c.end.ensures)
    (ready_set (slice_set xs a.number (Some u)) a.number None (ready_set xs a.number (Some u) ready c.advance.ensures.ready) tt)

pub returns-in-Forked-clause-ready : goal.returns-in-Forked-clause-ready
returns-in-Forked-clause-ready c =
    let a = c.args in
    let xs = c.make_room.new.threads.items in
    let m = a.memory.now in
    let t = c.in-Some.thread in
    let u = c.advance.new.thread in
    let same : xs ≡ a.threads.now.items = c.make_room.ensures.items in
    let l : a.number < length xs = first_of (omega arith, search rules) in
    let at : Some t ≡ get_or xs a.number (Some t) = subst (λ y. y ≡ get_or xs a.number y) c.in-Some.is c.index_mut.ensures.value in
    let ready : AreReady xs = subst AreReady (sym same) c.requires.ready in
    let d = c.in_ok-did-in-Some.ensures.ok in
    let h = sym (ap (λ x. step_by x u c.advance.new.memory) c.in-Forked.is) ∙ d.is in
    let new : IsReady c.in-Forked.thread = subst IsNewReady c.in-Forked.is
    (c.in_ok-did-in-Some.ensures.new (forked_spawns a.program.now a.pick (thread_of t) m c.advance.new.memory (thread_of u) (thread_of c.in-Forked.thread) h)) in
    c.add.ensures.ready new (ready_set xs a.number (Some u) ready c.advance.ensures.ready)
