use Rattle.std.proofs.Common.{length, refl, sym, ◌∙◌}
use Rattle.std.proofs.lemmas.Bool.{false≢true}
use Rattle.std.proofs.lemmas.Option.{slice_get_read, slice_get_past}
use Rattle.std.proofs.lemmas.Result.{on_ok_weaker}
use Rattle.vd_heads.proofs.Closing.{exports_as, exports_nothing, exports_none}
use Rattle.vd_heads.proofs.closure.add_exports.Goals as goal

pub returns-then-is_unit : goal.returns-then-is_unit
returns-then-is_unit c =
    let ps = c.args.parts.now in
    let n = c.args.of in
    let part = c.in-Some.part.now in
    let l = c.in-Some.ensures.lookup in
    on_ok_weaker c.add_exported.result
    (exports_as ps c.args.table.now n part c.requires.table (slice_get_read ps (length ps) n part refl l.3.0 l.1) (c.is_unit.ensures.0 c.if-is_unit.true) c.as_slice.result.now c.as_slice.ensures _ _) c.add_exported.ensures

pub returns-else-is_unit : goal.returns-else-is_unit
returns-else-is_unit c =
    let ps = c.args.parts.now in
    let n = c.args.of in
    let part = c.in-Some.part.now in
    let l = c.in-Some.ensures.lookup in
    exports_nothing ps n part (slice_get_read ps (length ps) n part refl l.3.0 l.1) (λ unit. absurd (false≢true (sym c.if-is_unit.false ∙ c.is_unit.ensures.1 unit))) c.args.set.now c.requires.set

pub returns-in-None : goal.returns-in-None
returns-in-None c = exports_none c.args.parts.now c.args.of (slice_get_past c.args.parts.now c.args.of c.in-None.ensures.lookup.3) c.args.set.now c.requires.set
