use Rattle.std.proofs.Common.{List, ℕ, map, string_bytes}
use Rattle.vd_commands.specs.Call.{Means}
use Rattle.vd_commands.specs.Seen.{ShelfSeen, SinkSeen}
use Rattle.vd_top.proofs.Completing.{complete}
use Rattle.vd_commands.proofs.Endings.{told_means}
use Rattle.vd_top.proofs.top.plain_top.Goals as goal

pub returns-clause-ends : goal.returns-clause-ends
returns-clause-ends g c =
    let words : List (List ℕ) = map string_bytes c.args.words.now in
    let shelf : ShelfSeen = record { held = g.H.Shelf.held c.args.shelf.now; taken = g.H.Shelf.taken c.args.shelf.now; taken_after = g.H.Shelf.taken c.run-ending.new.shelf; faults = g.H.Shelf.faults c.args.shelf.now; faults_after = g.H.Shelf.faults c.run-ending.new.shelf } in
    let out : SinkSeen = record { written = g.K.Sink.written c.args.out.now; written_after = g.K.Sink.written c.run-ending.new.out; faults = g.K.Sink.faults c.args.out.now; faults_after = g.K.Sink.faults c.run-ending.new.out } in
    record {
      ending = c.tell-told.result;
      is = c.status_of.ensures;
      means = told_means words shelf out c.run-ending.result c.tell-told.result c.run-ending.ensures.means c.tell-told.ensures.same;
      line = c.tell-told.ensures.line;
    }

pub returns-clause-complete : goal.returns-clause-complete
returns-clause-complete g c =
    let words : List (List ℕ) = map string_bytes c.args.words.now in
    let shelf : ShelfSeen = record { held = g.H.Shelf.held c.args.shelf.now; taken = g.H.Shelf.taken c.args.shelf.now; taken_after = g.H.Shelf.taken c.run-ending.new.shelf; faults = g.H.Shelf.faults c.args.shelf.now; faults_after = g.H.Shelf.faults c.run-ending.new.shelf } in
    let out : SinkSeen = record { written = g.K.Sink.written c.args.out.now; written_after = g.K.Sink.written c.run-ending.new.out; faults = g.K.Sink.faults c.args.out.now; faults_after = g.K.Sink.faults c.run-ending.new.out } in
    let means : Means c.tell-told.result words shelf out = told_means words shelf out c.run-ending.result c.tell-told.result c.run-ending.ensures.means c.tell-told.ensures.same in
    complete c.status_of.result c.tell-told.result words shelf out c.status_of.ensures means
