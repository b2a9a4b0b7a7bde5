-- What the part itself declares, and what an exported interface specifies, by the places of declarations.
use Rattle.std.proofs.Common.{◌≡◌, ◌==◌, ℕ, ◌<◌, ◌≤◌, true, false, List, length, get_or, take, ap, sym, ◌∙◌, subst, eq-eqb}
use Rattle.std.proofs.lemmas.Bool.{both_ways}
use Rattle.std.proofs.lemmas.List.{take_all}
use Rattle.std.proofs.lemmas.Option.{slice_get-get_or}
use Rattle.std.specs.List.{slice_get, list_any}
use Rattle.vd_heads.specs.declared.table.Space.{Space}
use Rattle.vd_heads.specs.declared.table.Space.TheVariants as space
use Rattle.vd_heads.specs.declared.table.Spot.{Spot}
use Rattle.vd_heads.specs.declared.view.View.{View}
use Rattle.vd_heads.specs.Declaration.{Bytes, IsDeclared}
use Rattle.vd_heads.specs.Views.{IsView, is_marked, spots_of}
use Rattle.vd_heads.proofs.Places.{spot_declared, declared_spot}
use Rattle.vd_known.specs.Completeness.{HasOwn, IsExported}
use Rattle.vd_known.proofs.ItemLaws.{at_any}

pub own_here : (v : View) (s : Space) (name : Bytes) (xs : List Spot) (n : ℕ) (d : Spot) → xs ≡ spots_of v.parts.now s name → n < length xs → (get_or xs n d).part ≡ v.own → HasOwn v.parts.now v.own s name
own_here v s name xs n d same below e =
    let x = get_or xs n d in
    let r = spot_declared v.parts.now s name n x (ap (λ ys. slice_get ys n) (sym same) ∙ slice_get-get_or xs n d below) in
    (x.section, r.0, subst (λ k. IsDeclared v.parts.now s name k x.section r.0) e r.1)

pub none_own : (v : View) (s : Space) (name : Bytes) (xs : List Spot) (n : ℕ) → xs ≡ spots_of v.parts.now s name → length xs ≤ n → list_any (λ x. x.part == v.own) (take n xs) ≡ false → HasOwn v.parts.now v.own s name → ⊥
none_own v s name xs n same past e h =
    let d = declared_spot v.parts.now s name v.own h.0 h.1 h.2 in
    let found : list_any (λ x. x.part == v.own) xs ≡ true = at_any (λ x. x.part == v.own) xs d.0 d.1 (ap (λ ys. slice_get ys d.0) same ∙ d.2) (eq-eqb d.1.part v.own d.3) in
    both_ways (list_any (λ x. x.part == v.own) xs) (ap (list_any (λ x. x.part == v.own)) (sym (take_all n xs past)) ∙ e) found

pub exported_here : (v : View) (name : Bytes) (xs : List Spot) (n : ℕ) (d : Spot) → IsView v → xs ≡ spots_of v.parts.now space.Function name → n < length xs → is_marked v.exported.items (get_or xs n d).part ≡ true → IsExported v.parts.now v.own name
exported_here v name xs n d is same below e =
    let x = get_or xs n d in
    let r = spot_declared v.parts.now space.Function name n x (ap (λ ys. slice_get ys n) (sym same) ∙ slice_get-get_or xs n d below) in
    (x.part, x.section, r.0, (is.exported x.part).0 e, r.1)

pub none_exported : (v : View) (name : Bytes) (xs : List Spot) (n : ℕ) → IsView v → xs ≡ spots_of v.parts.now space.Function name → length xs ≤ n → list_any (λ x. is_marked v.exported.items x.part) (take n xs) ≡ false → IsExported v.parts.now v.own name → ⊥
none_exported v name xs n is same past e h =
    let d = declared_spot v.parts.now space.Function name h.0 h.1 h.2 h.4 in
    let found : list_any (λ x. is_marked v.exported.items x.part) xs ≡ true =
    at_any (λ x. is_marked v.exported.items x.part) xs d.0 d.1 (ap (λ ys. slice_get ys d.0) same ∙ d.2) (ap (is_marked v.exported.items) d.3 ∙ (is.exported h.0).1 h.3) in
    both_ways (list_any (λ x. is_marked v.exported.items x.part) xs) (ap (list_any (λ x. is_marked v.exported.items x.part)) (sym (take_all n xs past)) ∙ e) found
