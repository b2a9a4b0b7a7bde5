-- Tables of names: what one more makes of them.
use Rattle.std.proofs.Common.{◌≡◌, ℕ, Bool, true, false, cond, List, [], ◌∷◌, ◌++◌, Option, Some, Bor, refl, ap, sym, ◌∙◌, append-nil}
use Rattle.std.proofs.lemmas.List.Elements.{filter-append}
use Rattle.std.proofs.lemmas.Map.Text.{btree_map_updates_str}
use Rattle.std.proofs.lemmas.Slice.Eq.{bytes_eq-Decides}
use Rattle.std.specs.BTreeMap.{BTreeMap, get_by, UpdatesBy}
use Rattle.std.specs.Cmp.Lexicographic.{slice_cmp}
use Rattle.std.specs.List.{filter}
use Rattle.std.specs.Ordering.{nat_cmp}
use Rattle.std.specs.Str.{bytes_eq}
use Rattle.vd_singles.specs.declared.table.Table.{Table}
use Rattle.vd_singles.specs.Table.{Bytes, IsTable, kept, told, told_more}

-- what a map keyed by names has at a name
abbrev pub at_name : {X : Type 0} → BTreeMap (Bor Bytes) X → Bytes → Option X
at_name m name = get_by (λ k. slice_cmp nat_cmp name k.now) m

-- m becomes n by a change at one name
abbrev pub Changes : {X : Type 0} → Bytes → BTreeMap (Bor Bytes) X → BTreeMap (Bor Bytes) X → Option X → Type 0
Changes name m n w = UpdatesBy (λ x y. slice_cmp nat_cmp x.now y.now) (λ k. slice_cmp nat_cmp name k.now) m n w

pub put : {X : Type 0} (name key : Bytes) (m n : BTreeMap (Bor Bytes) X) (w : X) → key ≡ name → Changes key m n (Some w) → (other : Bytes) → at_name n other ≡ cond (bytes_eq name other) (Some w) (at_name m other)
put name key m n w same change other = btree_map_updates_str key m n (Some w) change other ∙ ap (λ k. cond (bytes_eq k other) (Some w) (at_name m other)) same

-- ---- tables

told_push : (ps : List (Bytes × ℕ)) (name : Bytes) (n : ℕ) → told (ps ++ (name, n) ∷ []) ≡ Some (told_more (told ps) n)
told_push [] name n = refl
told_push (p ∷ []) name n = refl
told_push (p ∷ q ∷ ps) name n = refl

pub table_put : (t n : Table) (pairs : List (Bytes × ℕ)) (name : Bytes) (number : ℕ) (w : Option ℕ) → w ≡ told_more (kept t name) number → Changes name t.numbers n.numbers (Some w) → IsTable t pairs → IsTable n (pairs ++ (name, number) ∷ [])
table_put t n pairs name number w told_is change is other =
    put name name t.numbers n.numbers w refl change other
    ∙ (go (bytes_eq name other) refl ∙ sym (ap told (filter-append (λ p. bytes_eq p.0 other) pairs ((name, number) ∷ [])))) where
      go : (b : Bool) → bytes_eq name other ≡ b → cond b (Some w) (kept t other) ≡ told (filter (λ p. bytes_eq p.0 other) pairs ++ cond b ((name, number) ∷ []) [])
      go true e =
          let at : name ≡ other = (bytes_eq-Decides name other).0 e in
          ap Some told_is ∙ (ap (λ x. Some (told_more (kept t x) number)) at ∙ (ap (λ x. Some (told_more x number)) (is other) ∙ sym (told_push (filter (λ p. bytes_eq p.0 other) pairs) name number)))
      go false e = is other ∙ ap told (sym (append-nil (filter (λ p. bytes_eq p.0 other) pairs)))
