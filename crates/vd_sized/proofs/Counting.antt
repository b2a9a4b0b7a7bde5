-- Cells in short: none, one, some behind others, so many times some.
use Rattle.std.proofs.Common.{◌≡◌, ℕ, zero, suc, ◌+◌, ◌*◌, ◌≤◌, min, List, ◌++◌, length, take, map, sym, ap, ap₂, ◌∙◌, arith, Bor}
use Rattle.std.specs.List.{repeat}
use Rattle.std.proofs.lemmas.Grind.{common_steps}
use Rattle.std.proofs.lemmas.List.{map-append, length-append, length-take, length-map, take-map}
use Rattle.vd_base.specs.declared.ctype.CType.{CType}
use Rattle.vd_base.specs.Layout.{most_cells}
use Rattle.vd_sized.specs.declared.leaves.Counted.{Counted}
use Rattle.vd_sized.specs.Counts.{Counts, CountsSome}
use Rattle.vd_sized.proofs.Taking.{take_take_append, take_append_take, map_repeat, length_repeat, take_repeat_take, capped_times}

abbrev pub at : Bor CType → CType
at t = t.now

-- ---- what is small

pub few : (most : ℕ) (ts : List CType) (c : Counted) → Counts most ts c → (c.count ≤ most_cells + 1) × (length c.first ≤ most)
few most ts c h = (omega (arith, h.count), omega (arith, length-map c.first at, length-take most ts, ap length h.first))

pub few_some : (most : ℕ) (H : List CType → Type 0) (c : Counted) → CountsSome most H c → (c.count ≤ most_cells + 1) × (length c.first ≤ most)
few_some most H c h = few most h.cells c h.counts

-- ---- sums

capped_sum : (a b x y total : ℕ) → x ≡ min a (most_cells + 1) → y ≡ min b (most_cells + 1) → total ≡ min (x + y) (most_cells + 1) → total ≡ min (a + b) (most_cells + 1)
capped_sum a b x y total h k e = omega arith

pub counts_add : (most : ℕ) (ts us : List CType) (a b c : Counted) → Counts most ts a → Counts most us b → c.count ≡ min (a.count + b.count) (most_cells + 1) → c.first ≡ take most (a.first ++ b.first)
    → Counts most (ts ++ us) c
counts_add most ts us a b c h k count first = record {
  count = capped_sum (length ts) (length us) a.count b.count c.count h.count k.count count ∙ ap (λ n. min n (most_cells + 1)) (sym (length-append ts us));
  first = ap (map at) first ∙ (sym (take-map at most (a.first ++ b.first)) ∙ (ap (take most) (map-append at a.first b.first)
      ∙ (ap₂ (λ x y. take most (x ++ y)) h.first k.first ∙ (take_take_append most ts (take most us) ∙ take_append_take most most ts us (omega arith)))));
}

-- ---- products

-- a product may be capped before it is taken
capped_product : (n cells : ℕ) → min (n * min (most_cells + 1) cells) (most_cells + 1) ≡ min (most_cells + 1) (n * cells)
capped_product zero cells = omega arith
capped_product (suc n) cells =
    let e : suc n * cells ≡ cells + n * cells = omega arith in
    let d : suc n * min (most_cells + 1) cells ≡ min (most_cells + 1) cells + n * min (most_cells + 1) cells = omega arith in
    grind (arith, common_steps, e, d, capped_product n cells)

capped_times_count : (n a x total : ℕ) → x ≡ min a (most_cells + 1) → total ≡ min (n * x) (most_cells + 1) → total ≡ min (n * a) (most_cells + 1)
capped_times_count n a x total h e =
    let turned : x ≡ min (most_cells + 1) a = omega arith in
    let back : min (most_cells + 1) (n * a) ≡ min (n * a) (most_cells + 1) = omega arith in
    e ∙ (ap (λ y. min (n * y) (most_cells + 1)) turned ∙ (capped_product n a ∙ back))

pub counts_times : (most n : ℕ) (ts : List CType) (a c : Counted) → Counts most ts a → c.count ≡ min (n * a.count) (most_cells + 1) → c.first ≡ take most (repeat (min n most) a.first) → Counts most (repeat n ts) c
counts_times most n ts a c h count first = record {
  count = capped_times_count n (length ts) a.count c.count h.count count ∙ ap (λ k. min k (most_cells + 1)) (sym (length_repeat n ts));
  first = ap (map at) (first ∙ capped_times most n a.first) ∙ (sym (take-map at most (repeat n a.first)) ∙ (ap (take most) (map_repeat at n a.first ∙ ap (repeat n) h.first) ∙ take_repeat_take most n ts));
}
