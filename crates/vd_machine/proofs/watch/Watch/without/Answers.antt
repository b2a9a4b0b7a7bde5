use Rattle.std.proofs.Common.{◌≡◌, ℕ, ◌&&◌, not, length, refl, sym, ap, subst, slice_set}
use Rattle.std.specs.Prelude.{◌==◌}
use Rattle.std.specs.Option.{unwrap_or}
use Rattle.std.proofs.lemmas.Option.{slice_get_read}
use Rattle.vd_machine.specs.declared.touch.Touched.{Touched}
use Rattle.vd_machine.specs.Touches.{nothing}
use Rattle.vd_machine.specs.Watching.{has, is_either, looks, writes, starts, touch_in, IsNoted}
use Rattle.vd_machine.proofs.Noted.{noted_set, holds_without}
use Rattle.vd_machine.proofs.watch.Watch.without.Goals as goal

pub returns-clause-added : goal.returns-clause-added
returns-clause-added c =
    let v = c.args.self in
    let n = c.args.thread in
    let us = slice_set v.touches.items n c.nothing.result in
    let t : Touched = c.index-touched.result.now in
    let is : t ≡ touch_in v.touches.items n =
    sym (ap (λ o. unwrap_or o nothing) (slice_get_read v.touches.items (length v.touches.items) n t refl c.requires.at c.index-touched.ensures)) in
    let noted : IsNoted v.touches.items n nothing us =
    subst (λ x. IsNoted v.touches.items n nothing (slice_set v.touches.items n x)) (sym c.nothing.ensures) (noted_set v.touches.items n nothing c.requires.at) in
    record {
      index = record {
        looked = holds_without v.looked c.take_both.new.set looks v.touches.items us n t (λ b o. refl) c.requires.index.looked is noted
            (subst (λ x. (b o k : ℕ) → has c.take_both.new.set b o k ≡ (not (is_either x b o && (n == k)) && has v.looked b o k)) c.looks.ensures c.take_both.ensures);
        written = holds_without v.written c.take_both-2.new.set writes v.touches.items us n t (λ b o. refl) c.requires.index.written is noted
            (subst (λ x. (b o k : ℕ) → has c.take_both-2.new.set b o k ≡ (not (is_either x b o && (n == k)) && has v.written b o k)) c.writes.ensures c.take_both-2.ensures);
        freed = holds_without v.freed c.take_both-3.new.set starts v.touches.items us n t (λ b o. refl) c.requires.index.freed is noted
            (subst (λ x. (b o k : ℕ) → has c.take_both-3.new.set b o k ≡ (not (is_either x b o && (n == k)) && has v.freed b o k)) c.starts.ensures c.take_both-3.ensures);
      };
      noted = noted;
    }
