use Rattle.std.proofs.Common.{◌≡◌, ◌↔◌, ◌+◌, length}
use Rattle.std.specs.Vec.Iter.{into_iter_items, into_iter_len}
use Rattle.vd_store.specs.Texts.{Texts, no_texts}
use Rattle.vd_commands.specs.Submission.{SubmitsAfter}
use Rattle.vd_commands.proofs.submission.submitted.Given as goal

-- what is left makes of the store what all make of no texts
abbrev pub invariant-loop-text : goal.invariant-loop-text
invariant-loop-text l = record {
  after : (current : Texts) → SubmitsAfter no_texts l.fn.texts current ↔ SubmitsAfter l.store (into_iter_items l.text-iterator) current;
  left : into_iter_len l.text-iterator ≡ length (into_iter_items l.text-iterator);
  puts : l.store.puts + length (into_iter_items l.text-iterator) ≡ length l.fn.texts;
}
