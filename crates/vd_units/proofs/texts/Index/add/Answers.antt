use Rattle.std.proofs.Common.{refl, sym, ◌∙◌}
use Rattle.vd_units.proofs.Indexing.{index_kept, index_put}
use Rattle.vd_units.proofs.texts.Index.add.Goals as goal

pub returns-in_ok-insert : goal.returns-in_ok-insert
returns-in_ok-insert c = λ entries version is.
    index_put entries version c.args.name.now c.as_bytes-name.result.now c.args.text.now c.args.text c.args.self.now (record { texts = c.insert.new.self }) c.as_bytes-name.ensures.value refl
    (sym c.contains_key.ensures ∙ c.if-not-contains_key.true) c.in_ok-insert.ensures.updates is

pub returns-else-not-contains_key : goal.returns-else-not-contains_key
returns-else-not-contains_key c = λ entries version is.
    index_kept entries version c.args.name.now c.as_bytes-name.result.now c.args.text.now c.args.self.now c.as_bytes-name.ensures.value (sym c.contains_key.ensures ∙ c.if-not-contains_key.false) is
