-- What the kept parts of a block stand for, under its operations.
use Rattle.std.proofs.Common.{◌≡◌, ◌≢◌, ℕ, ◌<◌, ◌≤◌, Bool, true, false, ◌&&◌, cond, List, [], length, slice_set, Option, Some, None, refl, sym, ◌∙◌, ap, subst, inl, inr, arith}
use Rattle.std.specs.Prelude.{IsSome, ◌⊎◌, ◌==◌, replicate, slice_get, nat_le, nat_lt}
use Rattle.std.specs.List.{list_all}
use Rattle.std.specs.Option.{unwrap_or, is_some}
use Rattle.std.specs.Ordering.{nat_cmp, is_eq}
use Rattle.std.specs.BTreeMap.{BTreeMap, get, values, IsOrdered, IsEmpty}
use Rattle.std.specs.Map.{lookup}
use Rattle.std.proofs.lemmas.Bool.{eq-eqb, ne_eqb, cases_eq, cases_lt}
use Rattle.std.proofs.lemmas.Cmp.{nat_cmp_total}
use Rattle.std.proofs.lemmas.Option.{slice_get_past}
use Rattle.std.proofs.lemmas.Map.Entries.{btree_map_get_place}
use Rattle.vd_mem.specs.declared.value.Value.{Value}
use Rattle.vd_mem.specs.declared.value.Cell.{Cell}
use Rattle.vd_mem.specs.declared.value.Cell.TheVariants.{Data}
use Rattle.vd_mem.specs.Kept.{kept_cell, block_of, IsWithin, WritesTo}
use Rattle.vd_mem.specs.Locks.{IsLock}
use Rattle.vd_mem.specs.Memory.{Block, is_data, block_cell, block_put, new_block, is_freeable}
use Rattle.vd_mem.specs.Tabulate.{tabulate}
use Rattle.vd_mem.proofs.Lists.{slice_set-tabulate, slice_get-tabulate, length-tabulate, tabulate-constant, list_all-tabulate, list_all_at_place, list_all-lookup, list_all_by_place}

pub block_of-put :
    (size : ℕ) (fill : Value) (live heap : Bool) (before after : BTreeMap ℕ Cell) (o : ℕ) (c : Cell) →
    WritesTo before after o c → block_of size fill live heap after ≡ block_put (block_of size fill live heap before) o c
block_of-put size fill live heap before after o c h =
    ap (λ cells. record { cells = cells; is_live = live; is_heap = heap }) (sym (slice_set-tabulate size o (kept_cell fill before) (kept_cell fill after) c here other))
  where
    here : kept_cell fill after o ≡ c
    here = ap (λ x. unwrap_or x (Data fill)) (h o ∙ ap (λ b. cond b (Some c) (get nat_cmp before o)) (eq-eqb o o refl))

    other : (j : ℕ) → j ≢ o → kept_cell fill after j ≡ kept_cell fill before j
    other j ne = ap (λ x. unwrap_or x (Data fill)) (h j ∙ ap (λ b. cond b (Some c) (get nat_cmp before j)) (ne_eqb j o ne))

pub within_after :
    (size : ℕ) (before after : BTreeMap ℕ Cell) (o : ℕ) (c : Cell) →
    o < size → WritesTo before after o c → IsWithin size before → IsWithin size after
within_after size before after o c l h w q s = by (cases_eq q o)
  where
    by : (q ≡ o) ⊎ (q ≡ o → ⊥) → q < size
    by (inl e) = omega arith
    by (inr ne) = w q (subst (λ x. IsSome x) (h q ∙ ap (λ b. cond b (Some c) (get nat_cmp before q)) (ne_eqb q o ne)) s)

pub block_of-empty : (size : ℕ) (fill : Value) (heap : Bool) (m : BTreeMap ℕ Cell) → IsEmpty m → block_of size fill true heap m ≡ new_block size fill heap
block_of-empty size fill heap m e =
    ap (λ cells. record { cells = cells; is_live = true; is_heap = heap })
    (tabulate-constant size (kept_cell fill m) (Data fill) (λ i. ap (λ es. unwrap_or (lookup (λ k. is_eq (nat_cmp i k)) es) (Data fill)) e))

-- all cells are data exactly where all that were written are
pub data_cells :
    (size : ℕ) (fill : Value) (m : BTreeMap ℕ Cell) → IsWithin size m → IsOrdered nat_cmp m →
    list_all is_data (values m) ≡ list_all is_data (tabulate size (kept_cell fill m))
data_cells size fill m within ordered = same (list_all is_data (values m)) (list_all is_data (tabulate size (kept_cell fill m))) there back
  where
    same : (a b : Bool) → (a ≡ true → b ≡ true) → (b ≡ true → a ≡ true) → a ≡ b
    same true b f g = sym (f refl)
    same false true f g = g refl
    same false false f g = refl

    there : list_all is_data (values m) ≡ true → list_all is_data (tabulate size (kept_cell fill m)) ≡ true
    there h = list_all-tabulate is_data size (kept_cell fill m) (λ i l. list_all-lookup is_data (λ k. is_eq (nat_cmp i k)) (Data fill) m.entries h refl)

    back : list_all is_data (tabulate size (kept_cell fill m)) ≡ true → list_all is_data (values m) ≡ true
    back h = list_all_by_place is_data m.entries at
      where
        at : (i k : ℕ) (x : Cell) → slice_get m.entries i ≡ Some (k, x) → is_data x ≡ true
        at i k x e =
            let found : get nat_cmp m k ≡ Some x = btree_map_get_place nat_cmp_total m i k x ordered e in
            subst (λ c. is_data (unwrap_or c (Data fill)) ≡ true) found
            (list_all_at_place is_data size (kept_cell fill m) h k (within k (subst (λ c. IsSome c) (sym found) refl)))

-- the cell of a block, by cases
pub block_of-cell :
    (size : ℕ) (fill : Value) (live heap : Bool) (m : BTreeMap ℕ Cell) (o : ℕ) →
    live ≡ true → o < size → block_cell (block_of size fill live heap m) o ≡ Some (kept_cell fill m o)
block_of-cell size fill live heap m o e l =
    ap (λ b. cond b (slice_get (tabulate size (kept_cell fill m)) o) None) e ∙ slice_get-tabulate size o (kept_cell fill m) l

pub block_of-cell_past :
    (size : ℕ) (fill : Value) (live heap : Bool) (m : BTreeMap ℕ Cell) (o : ℕ) →
    size ≤ o → block_cell (block_of size fill live heap m) o ≡ None
block_of-cell_past size fill live heap m o l =
    ap (λ c. cond live c None) (slice_get_past (tabulate size (kept_cell fill m)) o (subst (λ n. n ≤ o) (sym (length-tabulate size (kept_cell fill m))) l)) ∙ none live
  where
    nothing : Option Cell
    nothing = None

    none : (b : Bool) → cond b nothing nothing ≡ nothing
    none true = refl
    none false = refl

pub block_of-cell_freed : (size : ℕ) (fill : Value) (live heap : Bool) (m : BTreeMap ℕ Cell) (o : ℕ) → live ≡ false → block_cell (block_of size fill live heap m) o ≡ None
block_of-cell_freed size fill live heap m o e = ap (λ b. cond b (slice_get (tabulate size (kept_cell fill m)) o) None) e

-- a lock cell was written
pub lock_was_written :
    (size : ℕ) (fill : Value) (live heap : Bool) (m : BTreeMap ℕ Cell) (o : ℕ) →
    IsLock (block_cell (block_of size fill live heap m) o) → IsSome (get nat_cmp m o)
lock_was_written size fill false heap m o h = absurd h
lock_was_written size fill true heap m o h = by (cases_lt o size)
  where
    found : (x : Option Cell) → IsLock (Some (unwrap_or x (Data fill))) → IsSome x
    found None l = absurd l
    found (Some c) l = refl

    by : (o < size) ⊎ (size ≤ o) → IsSome (get nat_cmp m o)
    by (inl l) = found (get nat_cmp m o) (subst (λ c. IsLock c) (block_of-cell size fill true heap m o refl l) h)
    by (inr l) = absurd (subst (λ c. IsLock c) (block_of-cell_past size fill true heap m o l) h)

pub lock_is_within :
    (size : ℕ) (fill : Value) (live heap : Bool) (m : BTreeMap ℕ Cell) (o : ℕ) →
    IsLock (block_cell (block_of size fill live heap m) o) → o < size
lock_is_within size fill live heap m o h = by (cases_lt o size)
  where
    by : (o < size) ⊎ (size ≤ o) → o < size
    by (inl l) = l
    by (inr l) = absurd (subst (λ c. IsLock c) (block_of-cell_past size fill live heap m o l) h)

-- when a block may be freed
pub freeable_is :
    (size : ℕ) (fill : Value) (live heap : Bool) (m : BTreeMap ℕ Cell) → IsWithin size m → IsOrdered nat_cmp m →
    is_freeable (block_of size fill live heap m) ≡ (live && (heap && list_all is_data (values m)))
freeable_is size fill live heap m within ordered = ap (λ b. live && (heap && b)) (sym (data_cells size fill m within ordered))
