-- The program of a link is the one that its units' code makes.
use Rattle.std.proofs.Common.{◌≡◌, ℕ, zero, suc, ◌+◌, ◌<◌, Bool, true, false, cond, List, [], ◌∷◌, length, take, get_or, codes, Option, None, Some, option_map, Result, Ok, Err, IfOk, All, refl, ap, sym, ◌∙◌, subst, arith}
use Rattle.std.proofs.lemmas.Grind.{common_steps}
use Rattle.std.proofs.lemmas.List.Elements.{All-head, All-tail}
use Rattle.std.specs.declared.alloc.AllocError.{AllocError}
use Rattle.std.specs.List.{position}
use Rattle.std.specs.Str.{bytes_eq}
use Rattle.vd_clight.specs.declared.program.GlobalDef.{GlobalDef}
use Rattle.vd_clight.specs.declared.program.Program.{Program}
use Rattle.vd_clight.specs.declared.typed.TypedFn.{TypedFn}
use Rattle.vd_clight.specs.Whole.{is_whole}
use Rattle.vd_heads.specs.HeadPart.{head_part}
use Rattle.vd_outline.specs.declared.outline.Outline.{Outline}
use Rattle.vd_outline.specs.Outline.{Bytes}
use Rattle.vd_code.specs.declared.code.Code.{Code}
use Rattle.vd_code.specs.Code.{AreAlone, IsAlone, IsCodeOf, IsNoCode, IsOnlyCode, no_units, unit}
use Rattle.vd_linkage.specs.Conditions.{IsLinked}
use Rattle.vd_linkage.specs.Form.{ArePlain, Entry, is_plain}
use Rattle.vd_linkage.specs.Only.{IsOnly}
use Rattle.vd_linkage.specs.Program.{AreCode, HasScope, IsMadeOf, IsProgram, IsUnitCode, no_units as none_coded, unit as coded}
use Rattle.vd_link.specs.declared.linking.Fit.{Fit}
use Rattle.vd_link.specs.declared.linking.Fit.TheVariants as fit
use Rattle.vd_link.specs.Results.{Fits, HasUnits, PrintsFailure}
use Rattle.vd_link.proofs.Failing.{alone}
use Rattle.vd_linkage.proofs.Lists.{not_two, some_same}
use Rattle.vd_linkage.proofs.Plain.{closure_alone, one_closure, units_plain}

-- ---- the code of units of the form

to_alone : (texts : List Entry) (o : Outline) (ts : List TypedFn) (gs : List GlobalDef) → is_plain o ≡ true → IsUnitCode texts o ts gs → IsAlone o ts gs
to_alone texts o ts gs h c = record { scope = c.scope; scoped = subst (λ ps. HasScope ps c.scope) (one_closure texts o c.parts h c.closure) c.scoped; code = c.code }

from_alone : (texts : List Entry) (o : Outline) (ts : List TypedFn) (gs : List GlobalDef) → is_plain o ≡ true → IsAlone o ts gs → IsUnitCode texts o ts gs
from_alone texts o ts gs h a = record { parts = head_part o ∷ []; closure = closure_alone texts o h; scope = a.scope; scoped = a.scoped; code = a.code }

all_alone : (texts : List Entry) (os : List Outline) (ts : List TypedFn) (gs : List GlobalDef) → All (λ o. is_plain o ≡ true) os → AreCode texts os ts gs → AreAlone os ts gs
all_alone texts [] (t ∷ ts) gs h x = elim x [ ]
all_alone texts [] [] (g ∷ gs) h x = elim x [ ]
all_alone texts [] [] [] h none_coded = no_units
all_alone texts (o ∷ os) ts gs h (coded {ts = xs} {us = ys} {gs = gs_here} {hs = hs_behind} c r) = unit (to_alone texts o xs gs_here (All-head (λ o. is_plain o ≡ true) o os h) c) (all_alone texts os ys hs_behind (All-tail (λ o. is_plain o ≡ true) o os h) r)

all_coded : (texts : List Entry) (os : List Outline) (ts : List TypedFn) (gs : List GlobalDef) → All (λ o. is_plain o ≡ true) os → AreAlone os ts gs → AreCode texts os ts gs
all_coded texts [] (t ∷ ts) gs h x = elim x [ ]
all_coded texts [] [] (g ∷ gs) h x = elim x [ ]
all_coded texts [] [] [] h no_units = none_coded
all_coded texts (o ∷ os) ts gs h (unit {ts = xs} {us = ys} {gs = gs_here} {hs = hs_behind} c r) = coded (from_alone texts o xs gs_here (All-head (λ o. is_plain o ≡ true) o os h) c) (all_coded texts os ys hs_behind (All-tail (λ o. is_plain o ≡ true) o os h) r)

-- ---- programs

pub no_program : (texts : List Entry) (link text : Bytes) → PrintsFailure texts link text → (p : Program) → IsProgram texts link p → ⊥
no_program texts link text f p is = is.linked f.0 f.1 f.2.fails

module _ (texts : List Entry) (link : Bytes) (units : List Outline) (plain : ArePlain texts) (has : HasUnits texts link units) where
  are_plain : All (λ o. is_plain o ≡ true) units
  are_plain = units_plain texts [] has.0 units plain has.1.has_units

  its_code : (p : Program) (is : IsProgram texts link p) → AreAlone units is.fns is.globals
  its_code p is =
      let same : is.shape.units ≡ units = (alone texts link has.0 units is.shape plain has.1.lists has.1.has_units is.has_shape).units_are in
      all_alone texts units is.fns is.globals are_plain (subst (λ os. AreCode texts os is.fns is.globals) same is.code)

  pub no_code : IsNoCode (AreAlone units) → (p : Program) → IsProgram texts link p → ⊥
  no_code none p is = none is.fns is.globals (its_code p is)

  module _ (fns : List TypedFn) (globals : List GlobalDef) (code : IsOnlyCode (AreAlone units) fns globals) where
    made : (p : Program) → IsProgram texts link p → IsMadeOf fns globals p
    made p is =
        let same = code.only is.fns is.globals (its_code p is) in
        subst (λ gs. IsMadeOf fns gs p) same.1 (subst (λ fs. IsMadeOf fs is.globals p) same.0 is.made)

    pub only_program : IsLinked texts link → (found : Option Program) → IsOnly (IsMadeOf fns globals) found → IsOnly (IsProgram texts link) found
    only_program linked None h = λ p is. h p (made p is)
    only_program linked (Some p) h = (
      record {
        shape = record { names = has.0; units = units; reached = []; interfaces = [] };
        has_shape = has.1;
        linked = linked;
        fns = fns;
        globals = globals;
        code = all_coded texts units fns globals are_plain code.has;
        made = h.0;
      },
      λ q is. h.1 q (made q is),
    )

-- ---- main

program : List TypedFn → List GlobalDef → ℕ → Program
program fns globals main = record { fns = fns; globals = globals; main = main }

same_program : (p q : Program) → p.fns ≡ q.fns → p.globals ≡ q.globals → p.main ≡ q.main → p ≡ q
unfolding program
same_program p q f g m = ap (λ x. program x p.globals p.main) f ∙ (ap (λ x. program q.fns x p.main) g ∙ ap (λ x. program q.fns q.globals x) m)

one_made : (fns : List TypedFn) (globals : List GlobalDef) (p q : Program) → IsMadeOf fns globals p → IsMadeOf fns globals q → p ≡ q
one_made fns globals p q a b =
    same_program p q (a.has_fns ∙ sym b.has_fns) (a.has_globals ∙ sym b.has_globals)
    (some_same p.main q.main (sym a.main ∙ (ap (position (λ f. bytes_eq f.name (codes "main"))) (a.has_fns ∙ sym b.has_fns) ∙ b.main)))

no_number : (o : Option ℕ) (n : ℕ) → o ≡ None → o ≡ Some n → ⊥
no_number o n e f = cc

pub no_main : (fns : List TypedFn) (globals : List GlobalDef) → None ≡ position (λ f. bytes_eq f.name (codes "main")) fns → IsOnly (IsMadeOf fns globals) None
no_main fns globals e p m = no_number (position (λ f. bytes_eq f.name (codes "main")) fns) p.main (sym e) (ap (position (λ f. bytes_eq f.name (codes "main"))) (sym m.has_fns) ∙ m.main)

pub is_made : (fns : List TypedFn) (globals : List GlobalDef) (p : Program) → p.fns ≡ fns → p.globals ≡ globals → Some p.main ≡ position (λ f. bytes_eq f.name (codes "main")) fns → true ≡ is_whole p → IsOnly (IsMadeOf fns globals) (Some p)
is_made fns globals p f g m w =
    let is : IsMadeOf fns globals p = record { has_fns = f; has_globals = g; main = ap (position (λ f. bytes_eq f.name (codes "main"))) f ∙ sym m; whole = sym w } in
    (is, λ q made. one_made fns globals q p made is)

pub not_made : (fns : List TypedFn) (globals : List GlobalDef) (p : Program) → p.fns ≡ fns → p.globals ≡ globals → Some p.main ≡ position (λ f. bytes_eq f.name (codes "main")) fns → false ≡ is_whole p → IsOnly (IsMadeOf fns globals) None
not_made fns globals p f g m w q made =
    let same : q ≡ p = same_program q p (made.has_fns ∙ sym f) (made.has_globals ∙ sym g)
    (some_same q.main p.main (sym made.main ∙ (ap (position (λ f. bytes_eq f.name (codes "main"))) made.has_fns ∙ sym m))) in
    not_two (is_whole p) (ap is_whole (sym same) ∙ made.whole) (sym w)

pub program_of : (texts : List Entry) (link : Bytes) (units : List Outline) (plain : ArePlain texts) (has : HasUnits texts link units) (fns : List TypedFn) (globals : List GlobalDef) → IsOnlyCode (AreAlone units) fns globals → IsLinked texts link
    → (r : Result (Option Program) AllocError) → IfOk r (IsOnly (IsMadeOf fns globals)) → IfOk r (IsOnly (IsProgram texts link))
program_of texts link units plain has fns globals code linked (Ok found) h = only_program texts link units plain has fns globals code linked found h
program_of texts link units plain has fns globals code linked (Err fault) h = h

-- ---- the number of main

position-cons : {X : Type 0} (p : X → Bool) (x : X) (xs : List X) → position p (x ∷ xs) ≡ cond (p x) (Some 0) (option_map (λ k. k + 1) (position p xs))
position-cons p x xs = grind (arith, common_steps)

unmapped : (o : Option ℕ) → option_map (λ k. k + 1) o ≡ None → o ≡ None
unmapped None f = refl
unmapped (Some n) f = absurd (cc)

next_is : (i : ℕ) → i + 1 ≡ suc i
next_is i = omega arith

-- no earlier one passes, and this one does
pub position_at : {X : Type 0} (p : X → Bool) (xs : List X) (i : ℕ) (x : X) → i < length xs → x ≡ get_or xs i x → position p (take i xs) ≡ None → p x ≡ true → Some i ≡ position p xs
position_at p [] i x within at none is = absurd (omega (arith, within))
position_at p (y ∷ xs) zero x within at none is = (let e : p y ≡ true = ap p (sym at) ∙ is in sym (position-cons p y xs ∙ ap (λ b. cond b (Some 0) (option_map (λ k. k + 1) (position p xs))) e))
position_at p (y ∷ xs) (suc i) x within at none is = go (p y) (sym (position-cons p y (take i xs)) ∙ none) (position_at p xs i x (omega (arith, within)) at) ∙ sym (position-cons p y xs) where
  go : (b : Bool) → cond b (Some 0) (option_map (λ k. k + 1) (position p (take i xs))) ≡ None → (position p (take i xs) ≡ None → p x ≡ true → Some i ≡ position p xs)
      → Some (suc i) ≡ cond b (Some 0) (option_map (λ k. k + 1) (position p xs))
  go true e behind = absurd (cc)
  go false e behind = ap Some (sym (next_is i)) ∙ ap (option_map (λ k. k + 1)) (behind (unmapped (position p (take i xs)) e) is)

-- what is found is one case of an answer
pub as_fails : (texts : List Entry) (link : Bytes) (found : Fit) (text : Bytes) → found ≡ fit.Fails text → Fits found (λ units. IsLinked texts link × HasUnits texts link units) (PrintsFailure texts link) → PrintsFailure texts link text
as_fails texts link found text e h = subst (λ f. Fits f (λ units. IsLinked texts link × HasUnits texts link units) (PrintsFailure texts link)) e h

pub as_fitting : (texts : List Entry) (link : Bytes) (found : Fit) (units : List Outline) → found ≡ fit.Units units → Fits found (λ units. IsLinked texts link × HasUnits texts link units) (PrintsFailure texts link)
    → IsLinked texts link × HasUnits texts link units
as_fitting texts link found units e h = subst (λ f. Fits f (λ us. IsLinked texts link × HasUnits texts link us) (PrintsFailure texts link)) e h

pub as_code : (units : List Outline) (found : Option Code) (code : Code) → found ≡ Some code → IsCodeOf units found → IsOnlyCode (AreAlone units) code.fns code.globals
as_code units found code e h = subst (IsCodeOf units) e h

pub as_no_code : (units : List Outline) (found : Option Code) → found ≡ None → IsCodeOf units found → IsNoCode (AreAlone units)
as_no_code units found e h = subst (IsCodeOf units) e h
