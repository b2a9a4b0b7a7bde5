use Rattle.std.proofs.Common.{◌≡◌, ◌↔◌, ◌+◌, ◌∷◌, [], ap, sym, ◌∙◌, subst, refl, arith, length}
use Rattle.std.proofs.lemmas.List.{nil_from_length}
use Rattle.std.specs.Vec.Iter.{into_iter_items}
use Rattle.vd_store.specs.Texts.{Texts, no_texts}
use Rattle.vd_commands.specs.Submission.{IsHeadless, PutsText, SubmitsAfter}
use Rattle.vd_commands.proofs.Submitting.{headless_stops, next_text, one_snapshot}
use Rattle.vd_commands.proofs.submission.submitted.Goals as goal

pub returns-then-not-branch : goal.returns-then-not-branch
returns-then-not-branch c = λ entries s.
    let none : IsHeadless c.in-Some.text = c.in_ok-put_text.ensures.headless c.if-not-branch.true in
    let left : SubmitsAfter c.loop-text.store (into_iter_items c.loop-text.text-iterator) s.current = (c.loop-text.invariant.after s.current).0 s.after in
    headless_stops c.loop-text.store c.in-Some.text (into_iter_items c.next.new.self) s.current none (subst (λ ts. SubmitsAfter c.loop-text.store ts s.current) c.in-Some.ensures.steps.0 left)

pub loop-text-preserved : goal.loop-text-preserved
loop-text-preserved c =
    let step : into_iter_items c.loop-text.text-iterator ≡ c.in-Some.text ∷ into_iter_items c.next.new.self = c.in-Some.ensures.steps.0 in
    let put : PutsText c.loop-text.store c.in-Some.text c.put_text.new.store = c.in_ok-put_text.ensures.put c.if-not-branch.false in
    let puts : c.put_text.new.store.puts ≡ c.loop-text.store.puts + 1 = ap (λ (t : Texts). t.puts) put.is in
    let lengths : length (into_iter_items c.loop-text.text-iterator) ≡ length (c.in-Some.text ∷ into_iter_items c.next.new.self) = ap length step in
    record {
      after = λ current.
          let next : SubmitsAfter c.loop-text.store (c.in-Some.text ∷ into_iter_items c.next.new.self) current ↔ SubmitsAfter c.put_text.new.store (into_iter_items c.next.new.self) current =
          next_text c.loop-text.store c.put_text.new.store c.in-Some.text (into_iter_items c.next.new.self) put current in
          let now : SubmitsAfter no_texts c.args.texts current ↔ SubmitsAfter c.loop-text.store (into_iter_items c.loop-text.text-iterator) current = c.loop-text.invariant.after current in (
            λ p. next.0 (subst (λ ts. SubmitsAfter c.loop-text.store ts current) step (now.0 p)),
            λ p. now.1 (subst (λ ts. SubmitsAfter c.loop-text.store ts current) (sym step) (next.1 p)),
          );
      left = omega (arith, c.in-Some.ensures.steps.1, lengths, c.loop-text.invariant.left);
      puts = omega (arith, puts, lengths, c.loop-text.invariant.puts);
    }

pub returns : goal.returns
returns c =
    let none : into_iter_items c.loop-text.text-iterator ≡ [] = nil_from_length (into_iter_items c.loop-text.text-iterator) (sym c.loop-text.invariant.left ∙ c.in-None.ensures.steps.0) in
    let after : SubmitsAfter no_texts c.args.texts c.loop-text.store =
    (c.loop-text.invariant.after c.loop-text.store).1 (subst (λ ts. SubmitsAfter c.loop-text.store ts c.loop-text.store) (sym none) refl) in
    one_snapshot c.args.texts c.loop-text.store c.in_ok-snapshot.snapshot.texts after c.in_ok-snapshot.ensures.texts
