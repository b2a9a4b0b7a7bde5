-- Valuations that are given arguments from a number on.
use Rattle.std.proofs.Common.{◌≡◌, ℕ, suc, ◌<◌, nat_eq, Bool, true, false, cond, List, [], ◌∷◌, refl, sym, ap, ◌∙◌, arith}
use Rattle.std.proofs.lemmas.Bool.{eq-eqb, ne_eqb}
use Rattle.vd_meaning.specs.Values.{Val, Arg, OfInt, OfVal, OfList, as_int, as_val, as_list, IsWord, AreWords, HasWords}
use Rattle.vd_meaning.specs.Meaning.{Valuation, Agree, StandsFor}
use Rattle.vd_meaning.specs.MeaningLaws.{ValuationsOpen}

val-word : (a : Arg) → HasWords a → IsWord (as_val a)
val-word (OfInt z) h = tt
val-word (OfVal v) h = h
val-word (OfList l) h = tt

list-words : (a : Arg) → HasWords a → AreWords (as_list a)
list-words (OfInt z) h = tt
list-words (OfVal v) h = tt
list-words (OfList l) h = h

either-word : (t : Bool) (x y : Val) → IsWord x → IsWord y → IsWord (cond t x y)
either-word true x y a b = a
either-word false x y a b = b

either-words : (t : Bool) (x y : List Val) → AreWords x → AreWords y → AreWords (cond t x y)
either-words true x y a b = a
either-words false x y a b = b

-- the valuation with one variable more, which stands for an argument
given : Valuation → ℕ → (a : Arg) → HasWords a → Valuation
given w n a ok = record {
  ints = λ x. cond (nat_eq x n) (as_int a) (w.ints x);
  vals = λ x. cond (nat_eq x n) (as_val a) (w.vals x);
  lists = λ x. cond (nat_eq x n) (as_list a) (w.lists x);
  vals_ok = λ x. either-word (nat_eq x n) (as_val a) (w.vals x) (val-word a ok) (w.vals_ok x);
  lists_ok = λ x. either-words (nat_eq x n) (as_list a) (w.lists x) (list-words a ok) (w.lists_ok x);
}

given-here : (w : Valuation) (n : ℕ) (a : Arg) (ok : HasWords a) → StandsFor (given w n a ok) n a
unfolding given
given-here w n (OfInt z) ok = ap (λ t. cond t z (w.ints n)) (eq-eqb n n refl)
given-here w n (OfVal v) ok = ap (λ t. cond t v (w.vals n)) (eq-eqb n n refl)
given-here w n (OfList l) ok = ap (λ t. cond t l (w.lists n)) (eq-eqb n n refl)

less-apart : (x n : ℕ) → x < n → x ≡ n → ⊥
less-apart x n h e = omega (arith, h, e)

given-agree : (w : Valuation) (n : ℕ) (a : Arg) (ok : HasWords a) → Agree n w (given w n a ok)
unfolding given
given-agree w n a ok = record {
  ints = λ x h. sym (ap (λ t. cond t (as_int a) (w.ints x)) (ne_eqb x n (less-apart x n h)));
  vals = λ x h. sym (ap (λ t. cond t (as_val a) (w.vals x)) (ne_eqb x n (less-apart x n h)));
  lists = λ x h. sym (ap (λ t. cond t (as_list a) (w.lists x)) (ne_eqb x n (less-apart x n h)));
}

pub agree-same : (n : ℕ) (w : Valuation) → Agree n w w
agree-same n w = record { ints = λ x h. refl; vals = λ x h. refl; lists = λ x h. refl }

pub agree-fewer : (n m : ℕ) (w z : Valuation) → ((x : ℕ) → x < n → x < m) → Agree m w z → Agree n w z
agree-fewer n m w z le g = record {
  ints = λ x h. g.ints x (le x h);
  vals = λ x h. g.vals x (le x h);
  lists = λ x h. g.lists x (le x h);
}

pub agree-through : (n : ℕ) (w y z : Valuation) → Agree n w y → Agree n y z → Agree n w z
agree-through n w y z g k = record {
  ints = λ x h. g.ints x h ∙ k.ints x h;
  vals = λ x h. g.vals x h ∙ k.vals x h;
  lists = λ x h. g.lists x h ∙ k.lists x h;
}

stands-agree : (w z : Valuation) (n : ℕ) (a : Arg) → Agree (suc n) w z → StandsFor w n a → StandsFor z n a
stands-agree w z n (OfInt i) g h = sym (g.ints n (omega arith)) ∙ h
stands-agree w z n (OfVal v) g h = sym (g.vals n (omega arith)) ∙ h
stands-agree w z n (OfList l) g h = sym (g.lists n (omega arith)) ∙ h

pub valuations_open : ValuationsOpen
valuations_open w n [] ok = (w, (agree-same n w, tt))
valuations_open w n (a ∷ args) ok =
    let y = given w n a ok.0 in
    let more = valuations_open y (suc n) args ok.1 in
    let z = more.0 in (
      z,
      (
        agree-through n w y z (given-agree w n a ok.0) (agree-fewer n (suc n) y z (λ x h. omega (arith, h)) more.1.0),
        (stands-agree y z n a more.1.0 (given-here w n a ok.0), more.1.1),
      ),
    )
