-- The sort of a term, by its outermost layer.
use Rattle.std.proofs.Common.{◌≡◌, ◌<◌, ◌+◌, ℕ, ℤ, Bool, true, false, cond, ◌&&◌, List, [], ◌∷◌, length, drop, get_or, map, Some, None, sym, ap, ◌∙◌, arith}
use Rattle.std.proofs.lemmas.List.{drop_more, get_or-map, length-map}
use Rattle.vd_base.specs.declared.name.Name.{Name}
use Rattle.vd_logic.specs.declared.term.Op.{Op}
use Rattle.vd_logic.specs.declared.term.Sort.{Sort}
use Rattle.vd_logic.specs.declared.term.Sort.TheVariants as sort
use Rattle.vd_logic.specs.declared.term.Term.{Term, Num, Var, Named, Global, App}
use Rattle.vd_logic.specs.Layers.{fold-Num, fold-Var, fold-Named, fold-Global, fold-App}
use Rattle.vd_sized.specs.Sorts.{are_sorts, is_sort, signature, sort_layer, sort_of}

pub sort_of-Num : (n : ℤ) → sort_of (Num n) ≡ Some sort.Int
unfolding sort_of
sort_of-Num n = fold-Num sort_layer n

pub sort_of-Var : (i : ℕ) (s : Sort) → sort_of (Var i s) ≡ Some s
unfolding sort_of
sort_of-Var i s = fold-Var sort_layer i s

pub sort_of-Named : (n : Name) → sort_of (Named n) ≡ None
unfolding sort_of
sort_of-Named n = fold-Named sort_layer n

pub sort_of-Global : (n : Name) → sort_of (Global n) ≡ Some sort.Val
unfolding sort_of
sort_of-Global n = fold-Global sort_layer n

pub sort_of-App : (o : Op) (args : List Term) → sort_of (App o args) ≡ cond (are_sorts (map sort_of args) (signature o).0) (Some (signature o).1) None
unfolding sort_of
sort_of-App o args = fold-App sort_layer o args

-- an application, by whether its arguments have the sorts that the operation takes
pub application : (t : Term) (o : Op) (args : List Term) (wanted : List Sort) (given : Sort) (r : Bool) → t ≡ App o args → wanted ≡ (signature o).0 → given ≡ (signature o).1 → r ≡ are_sorts (map sort_of args) wanted
    → cond r (Some given) None ≡ sort_of t
application t o args wanted given r is w g e =
    ap (λ b. cond b (Some given) None) (e ∙ ap (are_sorts (map sort_of args)) w)
    ∙ (ap (λ s. cond (are_sorts (map sort_of args) (signature o).0) (Some s) None) g
    ∙ (sym (sort_of-App o args) ∙ ap sort_of (sym is)))

-- ---- terms that are left

module _ (ts : List Term) (i : ℕ) (t : Term) (lt : i < length ts) (is : t ≡ get_or ts i t) where
  head_left : drop i (map sort_of ts) ≡ sort_of t ∷ drop (i + 1) (map sort_of ts)
  head_left =
      let long : i < length (map sort_of ts) = omega (arith, length-map ts sort_of) in
      drop_more (map sort_of ts) i (sort_of t) long ∙ ap (λ s. s ∷ drop (i + 1) (map sort_of ts)) (get_or-map sort_of ts i t (sort_of t) lt ∙ ap sort_of (sym is))

  left_by : (rest others : List Sort) (s : Sort) → rest ≡ s ∷ others → are_sorts (drop i (map sort_of ts)) rest ≡ (is_sort (sort_of t) s && are_sorts (drop (i + 1) (map sort_of ts)) others)
  left_by rest others s e = ap (λ l. are_sorts l rest) head_left ∙ ap (are_sorts (sort_of t ∷ drop (i + 1) (map sort_of ts))) e

  pub fits_on : (rest others : List Sort) (s : Sort) (all : Bool) → rest ≡ s ∷ others → true ≡ is_sort (sort_of t) s → are_sorts (drop i (map sort_of ts)) rest ≡ all → are_sorts (drop (i + 1) (map sort_of ts)) others ≡ all
  fits_on rest others s all e fit before = ap (λ b. b && are_sorts (drop (i + 1) (map sort_of ts)) others) fit ∙ (sym (left_by rest others s e) ∙ before)

  pub fits_not : (rest others : List Sort) (s : Sort) (all : Bool) → rest ≡ s ∷ others → false ≡ is_sort (sort_of t) s → are_sorts (drop i (map sort_of ts)) rest ≡ all → false ≡ all
  fits_not rest others s all e unfit before = ap (λ b. b && are_sorts (drop (i + 1) (map sort_of ts)) others) unfit ∙ (sym (left_by rest others s e) ∙ before)

  pub one_too_many : (rest : List Sort) (all : Bool) → rest ≡ [] → are_sorts (drop i (map sort_of ts)) rest ≡ all → false ≡ all
  one_too_many rest all e before = sym (ap (λ l. are_sorts l rest) head_left ∙ ap (are_sorts (sort_of t ∷ drop (i + 1) (map sort_of ts))) e) ∙ before
