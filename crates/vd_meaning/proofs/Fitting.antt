-- Shares that fit a memory.
use Rattle.std.proofs.Common.{◌≡◌, ℕ, ◌+◌, ◌≤◌, Option, Some, sym, ◌∙◌, ap, subst, arith}
use Rattle.vd_mem.specs.declared.value.Value.{Value}
use Rattle.vd_mem.specs.declared.value.Cell.{Cell}
use Rattle.vd_mem.specs.declared.value.Cell.TheVariants as cell
use Rattle.vd_mem.specs.Memory.{cell_at, heap_length}
use Rattle.vd_mem.specs.Locks.{IsLock}
use Rattle.vd_meaning.specs.Values.{Val, val_of}
use Rattle.vd_meaning.specs.Shares.{Kind, Data, Lock, Hold, Token}
use Rattle.vd_meaning.specs.Fits.{IsDataOf, FitsCell}
use Rattle.vd_meaning.specs.ResourceLaws.{FittingIsResource, PartsFit}

fewer : (c : Option Cell) (heap : Option ℕ) (o : ℕ) (f g : Kind → ℕ) → ((k : Kind) → f k ≤ g k) → FitsCell c heap o g → FitsCell c heap o f
fewer c heap o f g e x = record {
  data_is = λ v p. x.data_is v (omega (arith, e (Data v)));
  lock_is = λ i p. x.lock_is i (omega (arith, e (Lock i)));
  hold_is = λ i p. x.hold_is i (omega (arith, e (Hold i)));
  token_is = λ n p. x.token_is n (omega (arith, e (Token n)));
  token_zero = λ p. let z = x.token_zero (omega (arith, e (Token 0))) in (z.0, λ v. omega (arith, z.1 v, e (Data v)));
  most = λ k. omega (arith, e k, x.most k);
  one_lock = λ i j p q. x.one_lock i j (omega (arith, e (Lock i))) (omega (arith, e (Lock j)));
  one_hold = λ i j p q. x.one_hold i j (omega (arith, e (Hold i))) (omega (arith, e (Hold j)));
  hold_lock = λ i j p q. x.hold_lock i j (omega (arith, e (Hold i))) (omega (arith, e (Lock j)));
  one_token = λ n m p q. x.one_token n m (omega (arith, e (Token n))) (omega (arith, e (Token m)));
}

pub parts_fit : PartsFit
parts_fit m r q x = λ b o. fewer (cell_at m b o) (heap_length m b) o (r b o) (λ k. r b o k + q b o k) (λ k. omega arith) (x b o)

some-data : {x y : Value} → Some (cell.Data x) ≡ Some (cell.Data y) → x ≡ y
some-data e = cc

one-value : (c : Option Cell) (v u : Val) → IsDataOf c v → IsDataOf c u → v ≡ u
one-value c v u x y = sym x.1.1 ∙ ap val_of (some-data (sym x.1.0 ∙ y.1.0)) ∙ y.1.1

no-lock : (c : Option Cell) (v : Val) → IsDataOf c v → IsLock c → ⊥
no-lock c v x l = subst IsLock x.1.0 l

pub fitting_is_resource : FittingIsResource
fitting_is_resource m r x = λ b o.
    let at = x b o in
    record {
      most = at.most;
      one_data = λ v u p q. one-value (cell_at m b o) v u (at.data_is v p) (at.data_is u q);
      data_lock = λ v i p q. no-lock (cell_at m b o) v (at.data_is v p) (at.lock_is i q);
      one_lock = at.one_lock;
      one_hold = at.one_hold;
      one_token = at.one_token;
    }
