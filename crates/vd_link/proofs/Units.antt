-- Code of units, put together.
use Rattle.std.proofs.Common.{◌≡◌, ◌<◌, ◌+◌, ℕ, zero, suc, Bool, true, false, List, [], ◌∷◌, ◌++◌, length, take, get_or, refl, ap, sym, ◌∙◌, subst, arith, append-nil, append_assoc}
use Rattle.std.proofs.lemmas.List.{take_more}
use Rattle.vd_clight.specs.declared.program.GlobalDef.{GlobalDef}
use Rattle.vd_clight.specs.declared.typed.TypedFn.{TypedFn}
use Rattle.vd_outline.specs.declared.outline.Outline.{Outline}
use Rattle.vd_code.specs.declared.code.Code.{Code}
use Rattle.vd_code.specs.Code.{Adds, AreAlone, IsAdded, IsAlone, IsNoCode, IsOnlyCode, no_units, unit}

pub no_units_added : IsOnlyCode (AreAlone []) [] []
no_units_added = record { has = no_units; only = λ us hs h. go us hs h } where
  go : (us : List TypedFn) (hs : List GlobalDef) → AreAlone [] us hs → (us ≡ []) × (hs ≡ [])
  go us hs no_units = (refl, refl)

units_append : (os : List Outline) (o : Outline) (ts us : List TypedFn) (gs hs : List GlobalDef) → AreAlone os ts gs → IsAlone o us hs → AreAlone (os ++ o ∷ []) (ts ++ us) (gs ++ hs)
units_append [] o [] us (g ∷ gs) hs x b = elim x [ ]
units_append [] o (t ∷ ts) us gs hs x b = elim x [ ]
units_append [] o [] us [] hs no_units b = subst (λ z. AreAlone (o ∷ []) us z) (append-nil hs) (subst (λ z. AreAlone (o ∷ []) z (hs ++ [])) (append-nil us) (unit b no_units))
units_append (p ∷ os) o ts us gs hs (unit {ts = xs} {us = ys} {gs = gs_here} {hs = bs} x r) b =
    subst (λ z. AreAlone (p ∷ (os ++ o ∷ [])) ((xs ++ ys) ++ us) z) (sym (append_assoc gs_here bs hs))
    (subst (λ z. AreAlone (p ∷ (os ++ o ∷ [])) z (gs_here ++ (bs ++ hs))) (sym (append_assoc xs ys us)) (unit x (units_append os o ys us bs hs r b)))

pub record AreSplit (os : List Outline) (o : Outline) (ts : List TypedFn) (gs : List GlobalDef) : Type 0 where
  pub front_fns : List TypedFn
  pub front_globals : List GlobalDef
  pub back_fns : List TypedFn
  pub back_globals : List GlobalDef
  pub front : AreAlone os front_fns front_globals
  pub back : IsAlone o back_fns back_globals
  pub fns : ts ≡ front_fns ++ back_fns
  pub globals : gs ≡ front_globals ++ back_globals

units_split : (os : List Outline) (o : Outline) (ts : List TypedFn) (gs : List GlobalDef) → AreAlone (os ++ o ∷ []) ts gs → AreSplit os o ts gs
units_split [] o ts gs (unit {ts = xs} {gs = gs_here} x no_units) = record { front_fns = []; front_globals = []; back_fns = xs; back_globals = gs_here; front = no_units; back = x; fns = append-nil xs; globals = append-nil gs_here }
units_split (p ∷ os) o ts gs (unit {ts = xs} {us = ys} {gs = gs_here} {hs = bs} x r) = (let q = units_split os o ys bs r in
    record {
      front_fns = xs ++ q.front_fns;
      front_globals = gs_here ++ q.front_globals;
      back_fns = q.back_fns;
      back_globals = q.back_globals;
      front = unit x q.front;
      back = q.back;
      fns = ap (λ z. xs ++ z) q.fns ∙ sym (append_assoc xs q.front_fns q.back_fns);
      globals = ap (λ z. gs_here ++ z) q.globals ∙ sym (append_assoc gs_here q.front_globals q.back_globals);
    })

pub units_more : (os : List Outline) (o : Outline) (old new : Code) → IsOnlyCode (AreAlone os) old.fns old.globals → IsAdded (IsAlone o) old new → IsOnlyCode (AreAlone (os ++ o ∷ [])) new.fns new.globals
units_more os o old new a b = record {
  has = subst (λ z. AreAlone (os ++ o ∷ []) new.fns z) (sym b.joined_globals) (subst (λ z. AreAlone (os ++ o ∷ []) z (old.globals ++ b.globals)) (sym b.joined_fns) (units_append os o old.fns b.fns old.globals b.globals a.has b.is.has));
  only = λ us hs h. (
      let p = units_split os o us hs h in
      let x = a.only p.front_fns p.front_globals p.front in
      let y = b.is.only p.back_fns p.back_globals p.back in
      (p.fns ∙ (ap (λ z. z ++ p.back_fns) x.0 ∙ (ap (λ z. old.fns ++ z) y.0 ∙ sym b.joined_fns)), p.globals ∙ (ap (λ z. z ++ p.back_globals) x.1 ∙ (ap (λ z. old.globals ++ z) y.1 ∙ sym b.joined_globals))));
}

-- a unit without code is among them
pub unit_none : (os : List Outline) (i : ℕ) (o : Outline) → i < length os → o ≡ get_or os i o → IsNoCode (IsAlone o) → IsNoCode (AreAlone os)
unit_none [] i o within at none us hs h = absurd (omega (arith, within))
unit_none (p ∷ os) zero o within at none us hs (unit {ts = xs} {gs = gs_here} x r) = none xs gs_here (subst (λ z. IsAlone z xs gs_here) (sym at) x)
unit_none (p ∷ os) (suc i) o within at none us hs (unit {us = ys} {hs = bs} x r) = unit_none os i o (omega (arith, within)) at none ys bs r

-- one unit behind those that were taken
pub taken_more : (os : List Outline) (i : ℕ) (o : Outline) (old new : Code) → i < length os → o ≡ get_or os i o → IsOnlyCode (AreAlone (take i os)) old.fns old.globals → IsAdded (IsAlone o) old new → IsOnlyCode (AreAlone (take (i + 1) os)) new.fns new.globals
taken_more os i o old new within at a b =
    subst (λ xs. IsOnlyCode (AreAlone xs) new.fns new.globals) (sym (take_more os i o within ∙ ap (λ z. take i os ++ z ∷ []) (sym at))) (units_more (take i os) o old new a b)

pub none_taken : (code : Code) → code.fns ≡ [] → code.globals ≡ [] → IsOnlyCode (AreAlone []) code.fns code.globals
none_taken code f g = subst (λ xs. IsOnlyCode (AreAlone []) xs code.globals) (sym f) (subst (λ ys. IsOnlyCode (AreAlone []) [] ys) (sym g) no_units_added)

pub within_same : (here os : List Outline) (i : ℕ) → here ≡ os → i < length here → i < length os
within_same here os i e h = subst (λ xs. i < length xs) e h

pub at_same : (here os : List Outline) (i : ℕ) (o : Outline) → here ≡ os → o ≡ get_or here i o → o ≡ get_or os i o
at_same here os i o e h = subst (λ xs. o ≡ get_or xs i o) e h

pub is_added : (P : List TypedFn → List GlobalDef → Type 0) (old new : Code) (more : Bool) → more ≡ true → Adds P old new more → IsAdded P old new
is_added P old new more e h = subst (Adds P old new) e h

pub is_none : (P : List TypedFn → List GlobalDef → Type 0) (old new : Code) (more : Bool) → more ≡ false → Adds P old new more → IsNoCode P
is_none P old new more e h = subst (Adds P old new) e h
