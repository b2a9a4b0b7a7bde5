-- Paths and arguments, taken one after another.
use Rattle.std.proofs.Common.{◌≡◌, ℕ, suc, ◌+◌, ◌<◌, List, [], ◌∷◌, ◌++◌, length, get_or, drop, map, pos, negsuc, ℤ, ◌+ℤ◌, ◌≤ℤ◌, Ok, Err, Result, refl, sym, ◌∙◌, ap, arith, add-one, append_assoc}
use Rattle.std.proofs.Common.{Bool, true, cond, Some}
use Rattle.std.specs.Prelude.{slice_get}
use Rattle.std.specs.List.{find}
use Rattle.std.proofs.lemmas.Option.{slice_get_read}
use Rattle.std.proofs.Math.Seq.{drop-cons}
use Rattle.std.proofs.lemmas.Int.{ints}
use Rattle.std.proofs.lemmas.List.{drop-map}
use Rattle.vd_clight.specs.declared.program.GlobalDef.{GlobalDef}
use Rattle.vd_clight.specs.declared.typed.TExpr.{TExpr}
use Rattle.vd_clight.specs.declared.typed.Part.{Part}
use Rattle.vd_mem.specs.declared.value.Value.{Value}
use Rattle.vd_machine.specs.declared.answer.Cause.{Cause}
use Rattle.vd_machine.specs.Evaluation.{Temps, moved, on_ok, eval, eval_all}
use Rattle.vd_machine.specs.Results.{Walked, onto}

-- the rest of a list from a place on is the item there and what follows
pub drop_at : {A : Type 0} (xs : List A) (i : ℕ) (x : A) → i < length xs → x ≡ get_or xs i x → drop i xs ≡ x ∷ drop (i + 1) xs
drop_at xs i x l e = drop-cons xs i x l ∙ ap (λ y. y ∷ drop (suc i) xs) (sym e) ∙ ap (λ n. x ∷ drop n xs) (sym (add-one i))

mapped_at : {A B : Type 0} (f : A → B) (xs : List A) (i : ℕ) (x : A) → i < length xs → x ≡ get_or xs i x → drop i (map f xs) ≡ f x ∷ drop (i + 1) (map f xs)
mapped_at f xs i x l e = drop-map f i xs ∙ ap (λ ys. map f ys) (drop_at xs i x l e) ∙ ap (λ ys. f x ∷ ys) (sym (drop-map f (i + 1) xs))

pub walked_more :
    (f : Part → Result ℤ Cause) (path : List Part) (from i : ℕ) (z d w : ℤ) (x : Part) →
    i < length path → x ≡ get_or path i x → Ok d ≡ f x → Walked (map f path) from i z →
    negsuc 2147483647 ≤ℤ d → d ≤ℤ pos 4294967295 → w ≡ z +ℤ d → Walked (map f path) from (i + 1) w
walked_more f path from i z d w x l e v h low high is = record {
  same = λ b. h.same b ∙ ap (λ ps. moved b z ps) (mapped_at f path i x l e) ∙ ap (λ r. moved b z (r ∷ drop (i + 1) (map f path))) (sym v)
      ∙ ap (λ y. moved b y (drop (i + 1) (map f path))) (sym is);
  low = let a = h.low in omega (arith, ints);
  high = let a = h.high in omega (arith, ints);
}

pub walked_fault :
    (f : Part → Result ℤ Cause) (path : List Part) (from i : ℕ) (z : ℤ) (c : Cause) (x : Part) →
    i < length path → x ≡ get_or path i x → Err c ≡ f x → Walked (map f path) from i z → (b : ℕ) → moved b (pos from) (map f path) ≡ Err c
walked_fault f path from i z c x l e v h b =
    h.same b ∙ ap (λ ps. moved b z ps) (mapped_at f path i x l e) ∙ ap (λ r. moved b z (r ∷ drop (i + 1) (map f path))) (sym v)

-- arguments
onto_more : (vs : List Value) (v : Value) (r : Result (List Value) Cause) → onto vs (on_ok r (λ us. Ok (v ∷ us))) ≡ onto (vs ++ v ∷ []) r
onto_more vs v (Ok us) = simp append_assoc
onto_more vs v (Err c) = refl

pub arguments_more :
    (globals : List GlobalDef) (t : Temps) (es : List TExpr) (i : ℕ) (vs : List Value) (v : Value) (e : TExpr) →
    i < length es → e ≡ get_or es i e → Ok v ≡ eval globals t e →
    eval_all globals t es ≡ onto vs (eval_all globals t (drop i es)) →
    eval_all globals t es ≡ onto (vs ++ v ∷ []) (eval_all globals t (drop (i + 1) es))
arguments_more globals t es i vs v e l at is h =
    h ∙ ap (λ xs. onto vs (eval_all globals t xs)) (drop_at es i e l at)
    ∙ ap (λ r. onto vs (on_ok r (λ u. on_ok (eval_all globals t (drop (i + 1) es)) (λ us. Ok (u ∷ us))))) (sym is)
    ∙ onto_more vs v (eval_all globals t (drop (i + 1) es))

pub arguments_fault :
    (globals : List GlobalDef) (t : Temps) (es : List TExpr) (i : ℕ) (vs : List Value) (c : Cause) (e : TExpr) →
    i < length es → e ≡ get_or es i e → Err c ≡ eval globals t e →
    eval_all globals t es ≡ onto vs (eval_all globals t (drop i es)) → eval_all globals t es ≡ Err c
arguments_fault globals t es i vs c e l at is h =
    h ∙ ap (λ xs. onto vs (eval_all globals t xs)) (drop_at es i e l at)
    ∙ ap (λ r. onto vs (on_ok r (λ u. on_ok (eval_all globals t (drop (i + 1) es)) (λ us. Ok (u ∷ us))))) (sym is)

-- the first item that passes a test, where none before it does
pub found_at :
    {A : Type 0} (p : A → Bool) (xs : List A) (i : ℕ) (x : A) → i < length xs → x ≡ get_or xs i x → true ≡ p x →
    find p xs ≡ find p (drop i xs) → slice_get xs i ≡ find p xs
found_at p xs i x l e t h =
    slice_get_read xs (length xs) i x refl l e ∙ sym (h ∙ ap (λ ys. find p ys) (drop_at xs i x l e) ∙ ap (λ b. cond b (Some x) (find p (drop (i + 1) xs))) (sym t))
