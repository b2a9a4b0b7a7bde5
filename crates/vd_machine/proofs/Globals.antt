-- The block of a global, one initial value after another.
use Rattle.std.proofs.Common.{◌≡◌, ℕ, zero, suc, ◌+◌, ◌-◌, ◌<◌, ◌≤◌, true, false, List, [], ◌∷◌, ◌++◌, length, get_or, take, map, slice_set, refl, sym, ◌∙◌, ap, ap₂, arith, add-one}
use Rattle.std.specs.Prelude.{replicate}
use Rattle.std.proofs.Math.Seq.{take-suc}
use Rattle.std.proofs.lemmas.List.{map-append, length-map, length-take-le}
use Rattle.vd_clight.specs.declared.program.GlobalDef.{GlobalDef}
use Rattle.vd_clight.specs.declared.program.Init.{Init}
use Rattle.vd_mem.specs.declared.value.Value.TheVariants.{Int}
use Rattle.vd_mem.specs.declared.value.Cell.{Cell}
use Rattle.vd_mem.specs.declared.value.Cell.TheVariants.{Data}
use Rattle.vd_mem.specs.Memory.{Block, put, block_put}
use Rattle.vd_mem.specs.Tabulate.{changed}
use Rattle.vd_machine.specs.Inside.{partly}
use Rattle.vd_machine.specs.Start.{init_value}
use Rattle.vd_machine.specs.Step.{room}

changed_last : (m : List Block) (b : Block) (f : Block → Block) → changed (m ++ b ∷ []) (length m) f ≡ m ++ f b ∷ []
changed_last [] b f = refl
changed_last (x ∷ m) b f = ap (λ l. x ∷ l) (changed_last m b f)

set_filled : (xs : List Cell) (k : ℕ) (z c : Cell) → 0 < k → slice_set (xs ++ replicate k z) (length xs) c ≡ (xs ++ c ∷ []) ++ replicate (k - 1) z
set_filled [] zero z c h = absurd (omega arith)
set_filled [] (suc k) z c h = let e : k ≡ suc k - 1 = omega arith in ap (λ n. c ∷ replicate n z) e
set_filled (x ∷ xs) k z c h = ap (λ l. x ∷ l) (set_filled xs k z c h)

front_length : (f : Init → Cell) (is : List Init) (i : ℕ) → i ≤ length is → length (map f (take i is)) ≡ i
front_length f is i h = length-map (take i is) f ∙ length-take-le i is h

front_more : (f : Init → Cell) (is : List Init) (i : ℕ) (x : Init) → i < length is → x ≡ get_or is i x → map f (take (i + 1) is) ≡ map f (take i is) ++ f x ∷ []
front_more f is i x l e =
    ap (λ n. map f (take n is)) (add-one i) ∙ ap (λ ys. map f ys) (take-suc is i x l ∙ ap (λ y. take i is ++ y ∷ []) (sym e)) ∙ map-append f (take i is) (x ∷ [])

cells_more :
    (f : Init → Cell) (is : List Init) (n i : ℕ) (z : Cell) (x : Init) → i < length is → length is ≤ n → x ≡ get_or is i x →
    slice_set (map f (take i is) ++ replicate (n - i) z) i (f x) ≡ map f (take (i + 1) is) ++ replicate (n - (i + 1)) z
cells_more f is n i z x l h e =
    let front : List Cell = map f (take i is) in
    let len : length front ≡ i = front_length f is i (omega arith) in
    let k : n - i - 1 ≡ n - (i + 1) = omega arith in
    ap (λ j. slice_set (front ++ replicate (n - i) z) j (f x)) (sym len)
    ∙ set_filled front (n - i) z (f x) (omega arith)
    ∙ ap₂ (λ ys j. ys ++ replicate j z) (sym (front_more f is i x l e)) k

-- one more initial value written
pub partly_more :
    (globals : List GlobalDef) (g : GlobalDef) (m now next : List Block) (i b : ℕ) (x : Init) → i < length g.init → length g.init ≤ room g.cells → x ≡ get_or g.init i x →
    b ≡ length m → now ≡ m ++ partly globals g i ∷ [] → next ≡ put now b i (Data (init_value globals x)) → next ≡ m ++ partly globals g (i + 1) ∷ []
partly_more globals g m now next i b x l h e at is put_is =
    put_is ∙ ap₂ (λ k w. put w k i (Data (init_value globals x))) at is
    ∙ changed_last m (partly globals g i) (λ y. block_put y i (Data (init_value globals x)))
    ∙ ap (λ cells. m ++ record { cells = cells; is_live = true; is_heap = false } ∷ [])
    (cells_more (λ y. Data (init_value globals y)) g.init (room g.cells) i (Data (Int 0)) x l h e)
