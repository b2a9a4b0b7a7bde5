use Rattle.std.proofs.Common.{◌≡◌, length, map, sym, ap, subst, arith}
use Rattle.std.proofs.lemmas.List.{length-map}
use Rattle.vd_machine.specs.Kept.{slot_of}
use Rattle.vd_machine.specs.Machine.{MachineRaces}
use Rattle.vd_machine.specs.Race.{RaceAt}
use Rattle.vd_machine.specs.Turns.{system_of}
use Rattle.vd_machine.proofs.machine.Machine.races.Goals as goal

pub overflow_cast-result : goal.overflow_cast-result
overflow_cast-result c =
    let ts = c.as_slice.result.now in
    let few = c.self.invariant.few in
    let same : length ts ≡ length c.self.inside.threads.items = ap (λ xs. length xs) c.as_slice.ensures.value in
    let count : length (map slot_of ts) ≡ length ts = length-map ts slot_of in
    let k = c.self.invariant.count in
    let second = c.in-Some.ensures.0 in
    let first = c.in-Some.ensures.1.race.0 in
    omega arith

pub overflow_cast-result-in-Some : goal.overflow_cast-result-in-Some
overflow_cast-result-in-Some c =
    let ts = c.as_slice.result.now in
    let few = c.self.invariant.few in
    let same : length ts ≡ length c.self.inside.threads.items = ap (λ xs. length xs) c.as_slice.ensures.value in
    let count : length (map slot_of ts) ≡ length ts = length-map ts slot_of in
    let k = c.self.invariant.count in
    let second = c.in-Some.ensures.0 in
    omega arith

pub returns-in-None : goal.returns-in-None
returns-in-None c = λ h.
    let i = c.self.inside in
    let r = (subst MachineRaces (sym c.self.view_is) h).1 in
    c.in-None.ensures r.first r.second r.block r.offset
    (subst (λ g. RaceAt g (system_of c.as_slice.result.now i.memory) r.first r.second r.block r.offset) (sym c.as_slice-globals.ensures)
    (subst (λ ts. RaceAt i.program.now.globals (system_of ts i.memory) r.first r.second r.block r.offset) (sym c.as_slice.ensures.value) r.race))
