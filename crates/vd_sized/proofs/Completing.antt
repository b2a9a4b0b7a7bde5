-- Where each struct that is not counted waits for another, what waits has no cells.
use Rattle.std.proofs.Common.{◌≡◌, ℕ, true, false, List, None, sym, ap, ◌∙◌, subst, inl, inr}
use Rattle.std.specs.List.{Contains}
use Rattle.std.specs.Option.{is_some}
use Rattle.std.proofs.lemmas.Option.{same_Some, none-some}
use Rattle.vd_base.specs.declared.ctype.CType.{CType}
use Rattle.vd_base.specs.declared.ctype.CType.TheVariants as typ
use Rattle.vd_base.specs.declared.ctype.Field.{Field}
use Rattle.vd_heads.specs.declared.table.Space.TheVariants as space
use Rattle.vd_heads.specs.declared.view.View.{View}
use Rattle.vd_heads.specs.Closure.{IsUnambiguous, Knows}
use Rattle.vd_heads.specs.Held.{held}
use Rattle.vd_sized.specs.Cells.{HasCells, HaveCells, is_one}
use Rattle.vd_sized.specs.Cells as cells
use Rattle.vd_sized.specs.Seen.{AreAllSeen, IsMeant, MeansStruct}
use Rattle.vd_sized.specs.Sizes.{IsCounted, Settles, SomeWaits, Waits, kept}
use Rattle.vd_sized.specs.Sizes as sized
use Rattle.vd_sized.specs.declared.order.StructSeen.{StructSeen}
use Rattle.vd_sized.specs.declared.size.Sizes.{Sizes}
use Rattle.vd_sized.proofs.Shapes.{held_Array, held_Struct, one_holds_none}
use Rattle.vd_sized.proofs.Derivations.{one_struct}

module _ (view : View) (sizes : Sizes) where
  -- what is held by value waits, or nothing does
  pub waits_held : (t u : CType) → held t ≡ held u → Waits view sizes t → Waits view sizes u
  waits_held t u e w = record { name = w.name; holds = sym e ∙ w.holds; known = w.known; uncounted = w.uncounted }

  pub waits_element : (t of : CType) (n : ℕ) → t ≡ typ.Array of n → Waits view sizes t → Waits view sizes of
  waits_element t of n e = waits_held t of (ap held e ∙ held_Array of n)

  pub waits_array : (t of : CType) (n : ℕ) → t ≡ typ.Array of n → Waits view sizes of → Waits view sizes t
  waits_array t of n e = waits_held of t (sym (ap held e ∙ held_Array of n))

  -- a struct that waits is known and not counted
  waits_struct : (t : CType) (name : List ℕ) → t ≡ typ.Struct name → Waits view sizes t → Knows view.parts.now view.own space.Struct name × (kept sizes name ≡ None)
  waits_struct t name e w =
      let same : w.name ≡ name = same_Some w.name name (sym w.holds ∙ (ap held e ∙ held_Struct name)) in
      (subst (λ n. Knows view.parts.now view.own space.Struct n) same w.known, ap (kept sizes) (sym same) ∙ w.uncounted)

  module _ (rest : (name : List ℕ) (fields : List Field) → MeansStruct view name fields → kept sizes name ≡ None → SomeWaits view sizes fields) where
    mutual
      pub no_cells : {t : CType} {ts : List CType} → HasCells view.parts.now view.own t ts → Waits view sizes t → ⊥
      no_cells {t} {ts} (cells.one o e) w = none-some w.name (sym (one_holds_none t o) ∙ w.holds)
      no_cells {t} {ts} (cells.array of n us q d e) w = no_cells d (waits_element t of n q w)
      no_cells {t} {ts} (cells.unknown name q k e) w = k (waits_struct t name q w).0
      no_cells {t} {ts} (cells.struct name fields q m d) w = none_together d (rest name fields m (waits_struct t name q w).1)

      pub none_together : {fs : List Field} {ts : List CType} → HaveCells view.parts.now view.own fs ts → SomeWaits view sizes fs → ⊥
      none_together cells.no_field w = elim w [ ]
      none_together (cells.field_then us vs a b e) (sized.here w) = no_cells a w
      none_together (cells.field_then us vs a b e) (sized.there w) = none_together b w

-- ---- where structs are settled, all that are meant are counted or wait

module _ (view : View) (old new : Sizes) (seen : List StructSeen) (single : IsUnambiguous view.parts.now view.own) (all : AreAllSeen view seen) (settles : Settles view old new seen) where
  meant_at : (s : StructSeen) → Contains seen s → IsMeant view s
  meant_at s h = subst (IsMeant view) h.2 (all.meant h.0 s h.1)

  no_kept : (n m : List ℕ) → n ≡ m → IsCounted new n → kept new m ≡ None → ⊥
  no_kept n m e counted none = no (sym (ap (λ o. is_some o) (ap (kept new) e ∙ none)) ∙ counted) where
    no : false ≡ true → ⊥
    no e = cc

  same_meaning : (s : StructSeen) (name : List ℕ) (fields : List Field) → s.name.now ≡ name → IsMeant view s → MeansStruct view name fields → s.fields.now ≡ fields
  same_meaning s name fields e m n =
      one_struct view.parts.now view.own single name s.fields.now fields (subst (λ x. MeansStruct view x s.fields.now) e m) n

  pub settled : (name : List ℕ) (fields : List Field) → MeansStruct view name fields → kept new name ≡ None → SomeWaits view new fields
  settled name fields m none =
      let s = all.all name fields m in
      elim (settles.settled s.known s.stands) [
        | inl counted ↦ absurd (no_kept s.known.name.now name s.named counted none)
        | inr waits ↦ subst (SomeWaits view new) (same_meaning s.known name fields s.named (meant_at s.known s.stands) m) waits
      ]
