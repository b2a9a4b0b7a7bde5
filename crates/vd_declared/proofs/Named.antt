-- The owners of names: what one more declaration makes of them.
use Rattle.std.proofs.Common.{◌≡◌, ◌<◌, ◌≤◌, ◌+◌, ℕ, Bool, true, false, ◌&&◌, cond, List, length, take, get_or, None, Some, refl, ap, sym, ◌∙◌, subst}
use Rattle.std.proofs.lemmas.List.{take_all}
use Rattle.std.proofs.lemmas.Map.Text.{btree_map_updates_str}
use Rattle.std.proofs.lemmas.Slice.Eq.{bytes_eq-Decides}
use Rattle.std.specs.BTreeMap.{UpdatesBy}
use Rattle.std.specs.Cmp.Lexicographic.{slice_cmp}
use Rattle.std.specs.Ordering.{nat_cmp}
use Rattle.std.specs.Str.{bytes_eq}
use Rattle.vd_heads.specs.declared.table.Space.{Space}
use Rattle.vd_heads.specs.Declaration.{Bytes, same_space}
use Rattle.vd_declared.specs.declared.declared.Declaration.{Declaration}
use Rattle.vd_declared.specs.declared.owners.Named.{Named}
use Rattle.vd_declared.specs.declared.owners.Owner.{Owner}
use Rattle.vd_declared.specs.declared.owners.Owners.{Owners}
use Rattle.vd_declared.specs.Owners.{AreOwners, joined, kept, owner_in, owners_from}
use Rattle.vd_declared.proofs.Listing.{take_step}
use Rattle.vd_declared.proofs.Owning.{is_of, owners_push}

pub owners_more : (ds : List Declaration) (i : ℕ) (d : Declaration) (name : Bytes) (x y : Owners) → i < length ds → d ≡ get_or ds i d → name ≡ d.name.now → AreOwners (take i ds) x
    → ((s : Space) (other : Bytes) → owner_in y s other ≡ cond (same_space s d.space && bytes_eq name other) (Some (joined (owner_in x s other) d.unit)) (owner_in x s other)) → AreOwners (take (i + 1) ds) y
owners_more ds i d name x y within at same before now s other =
    subst (λ n. owner_in y s other ≡ cond (same_space s d.space && bytes_eq n other) (Some (joined (owner_in x s other) d.unit)) (owner_in x s other)) same (now s other)
    ∙ (ap (λ o. cond (is_of s other d) (Some (joined o d.unit)) o) (before s other) ∙ (sym (owners_push None (take i ds) d s other) ∙ ap (λ xs. owners_from None xs s other) (take_step ds i d within at)))

pub owners_all : (ds : List Declaration) (i : ℕ) (x : Owners) → length ds ≤ i → AreOwners (take i ds) x → AreOwners ds x
owners_all ds i x past h = subst (λ xs. AreOwners xs x) (take_all i ds past) h

-- a name's owner becomes what one more unit makes of it, and no other's changes
pub owner_put : (name : Bytes) (m n : Named) (o : Owner) (unit : ℕ) → UpdatesBy (λ x y. slice_cmp nat_cmp x.now y.now) (λ k. slice_cmp nat_cmp name k.now) m.by_name n.by_name (Some o) → o ≡ joined (kept m name) unit → (other : Bytes)
    → kept n other ≡ cond (bytes_eq name other) (Some (joined (kept m other) unit)) (kept m other)
owner_put name m n o unit change is other = btree_map_updates_str name m.by_name n.by_name (Some o) change other ∙ go (bytes_eq name other) refl where
  go : (b : Bool) → bytes_eq name other ≡ b → cond b (Some o) (kept m other) ≡ cond b (Some (joined (kept m other) unit)) (kept m other)
  go true e = ap Some (is ∙ ap (λ k. joined (kept m k) unit) ((bytes_eq-Decides name other).0 e))
  go false e = refl
