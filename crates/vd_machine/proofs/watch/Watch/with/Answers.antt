use Rattle.std.proofs.Common.{◌≡◌, ℕ, ◌&&◌, ◌||◌, refl, subst}
use Rattle.std.specs.Prelude.{◌==◌}
use Rattle.vd_machine.specs.Watching.{has, is_either, looks, writes, starts}
use Rattle.vd_machine.proofs.Noted.{holds_with}
use Rattle.vd_machine.proofs.watch.Watch.with.Goals as goal

pub returns-clause-added : goal.returns-clause-added
returns-clause-added c =
    let v = c.args.self in
    let n = c.args.thread in
    record {
      index = record {
        looked = holds_with v.looked c.put_both.new.set looks v.touches.items c.note.new.touches.items n c.args.touched (λ b o. refl) c.requires.index.looked c.requires.free
            c.in_ok-note.ensures
            (subst (λ x. (b o k : ℕ) → has c.put_both.new.set b o k ≡ ((is_either x b o && (n == k)) || has v.looked b o k)) c.looks.ensures c.in_ok-put_both.ensures);
        written = holds_with v.written c.put_both-2.new.set writes v.touches.items c.note.new.touches.items n c.args.touched (λ b o. refl) c.requires.index.written c.requires.free
            c.in_ok-note.ensures
            (subst (λ x. (b o k : ℕ) → has c.put_both-2.new.set b o k ≡ ((is_either x b o && (n == k)) || has v.written b o k)) c.writes.ensures c.in_ok-put_both-2.ensures);
        freed = holds_with v.freed c.put_both-3.new.set starts v.touches.items c.note.new.touches.items n c.args.touched (λ b o. refl) c.requires.index.freed c.requires.free
            c.in_ok-note.ensures
            (subst (λ x. (b o k : ℕ) → has c.put_both-3.new.set b o k ≡ ((is_either x b o && (n == k)) || has v.freed b o k)) c.starts.ensures c.in_ok-put_both-3.ensures);
      };
      noted = c.in_ok-note.ensures;
    }
