use Rattle.std.proofs.Common.{length, refl}
use Rattle.std.proofs.lemmas.Option.{slice_get_read, slice_get_past}
use Rattle.std.proofs.lemmas.Result.{on_ok_weaker}
use Rattle.vd_heads.proofs.Closing.{mentions_of, mentions_none}
use Rattle.vd_heads.proofs.closure.add_next.Goals as goal

pub returns-in-Some : goal.returns-in-Some
returns-in-Some c =
    let ps = c.args.parts.now in
    let n = c.args.number in
    let part = c.in-Some.part.now in
    let l = c.in-Some.ensures.lookup in
    on_ok_weaker c.add_mentioned.result (mentions_of ps c.args.table.now n part c.requires.table (slice_get_read ps (length ps) n part refl l.3.0 l.1) c.as_slice.result.now c.as_slice.ensures _ _) c.add_mentioned.ensures

pub returns-in-None : goal.returns-in-None
returns-in-None c = mentions_none c.args.parts.now c.args.number (slice_get_past c.args.parts.now c.args.number c.in-None.ensures.lookup.3) c.args.set.now c.requires.set
