-- An expression whose symbolic value is proved evaluates to it.
use Rattle.std.proofs.Common.{◌≡◌, ℕ, zero, suc, Bool, true, false, ◌&&◌, List, [], ◌∷◌, ◌++◌, Option, None, Some, Result, Ok, refl, sym, ◌∙◌, ap, subst, arith, slice_get, slice_set, nat_lt, ℤ, pos, ◌+ℤ◌, ◌-ℤ◌}
use Rattle.std.specs.List.{list_all}
use Rattle.std.proofs.lemmas.Bool.Decides.{nat_tests}
use Rattle.std.proofs.lemmas.List.Folds.{list_all-append}
use Rattle.vd_clight.specs.declared.program.GlobalDef.{GlobalDef}
use Rattle.vd_clight.specs.declared.syntax.BinOp.{BinOp}
use Rattle.vd_clight.specs.declared.syntax.BinOp.TheVariants as op
use Rattle.vd_clight.specs.declared.typed.Kind.{Kind}
use Rattle.vd_clight.specs.declared.typed.Kind.TheVariants.{Signed}
use Rattle.vd_clight.specs.declared.typed.Part.{Part, fold-Part}
use Rattle.vd_clight.specs.declared.typed.Part.TheOpen as expression
use Rattle.vd_clight.specs.declared.typed.Lval.{Lval}
use Rattle.vd_clight.specs.declared.typed.TExpr.{TExpr, TExpr-F, ind-TExpr, map-TExpr, roll-TExpr, fold-roll-TExpr}
use Rattle.vd_mem.specs.declared.value.Value.TheVariants.{Int}
use Rattle.vd_mem.specs.Word.{signed}
use Rattle.vd_machine.specs.declared.answer.Cause.{Cause}
use Rattle.vd_machine.specs.Arithmetic.{Evaluated, arithmetic, binary}
use Rattle.vd_machine.specs.Evaluation.{Temps, temp, eval, address, on_ok, on_int, part_layer, expression_layer, place_layer}
use Rattle.vd_check.specs.Value.{Value, Locals, value, value_layer, local_value, binary_value, computed, is_signed, is_proved, wrapped}

-- the temporaries have the values of the state
abbrev pub Matches : Locals → Temps → Type 0
Matches [] [] = Unit {0}
Matches [] (v ∷ vs) = ⊥
Matches (l ∷ ls) [] = ⊥
Matches (None ∷ ls) (v ∷ vs) = Matches ls vs
Matches (Some n ∷ ls) (v ∷ vs) = (v ≡ Int n) × Matches ls vs

some_some : (m n : ℕ) → Some (Some m) ≡ Some (Some n) → m ≡ n
some_some m n h = cc

pub matches_at : (ls : Locals) (vs : Temps) (i n : ℕ) → Matches ls vs → slice_get ls i ≡ Some (Some n) → temp vs i ≡ Int n
matches_at [] [] i n m h = absurd (cc)
matches_at [] (v ∷ vs) i n m h = absurd m
matches_at (l ∷ ls) [] i n m h = absurd m
matches_at (None ∷ ls) (v ∷ vs) zero n m h = absurd (cc)
matches_at (None ∷ ls) (v ∷ vs) (suc i) n m h = matches_at ls vs i n m h
matches_at (Some k ∷ ls) (v ∷ vs) zero n m h = m.0 ∙ ap Int (some_some k n h)
matches_at (Some k ∷ ls) (v ∷ vs) (suc i) n m h = matches_at ls vs i n m.1 h

pub matches_set : (ls : Locals) (vs : Temps) (i n : ℕ) → Matches ls vs → Matches (slice_set ls i (Some n)) (slice_set vs i (Int n))
matches_set [] [] i n m = tt
matches_set [] (v ∷ vs) i n m = absurd m
matches_set (l ∷ ls) [] i n m = absurd m
matches_set (None ∷ ls) (v ∷ vs) zero n m = (refl, m)
matches_set (None ∷ ls) (v ∷ vs) (suc i) n m = matches_set ls vs i n m
matches_set (Some k ∷ ls) (v ∷ vs) zero n m = (refl, m.1)
matches_set (Some k ∷ ls) (v ∷ vs) (suc i) n m = (m.0, matches_set ls vs i n m.1)

-- what an expression owes to the machine
abbrev pub Evaluates : Locals → List GlobalDef → Temps → TExpr → Type 0
Evaluates ls globals t e = (v : Value) → value ls e ≡ Some v → is_proved v ≡ true → eval globals t e ≡ Ok (Int v.number)

-- an expression with what is known of its parts
abbrev Layer : Locals → List GlobalDef → Temps → Type 0
Layer ls globals t = TExpr-F ((p : Part) × Unit {0}) ((e : TExpr) × Evaluates ls globals t e) ((l : Lval) × Unit {0})

abbrev plain : (ls : Locals) (globals : List GlobalDef) (t : Temps) → Layer ls globals t → TExpr-F Part TExpr Lval
plain ls globals t y = map-TExpr ((p : Part) × Unit {0}) ((e : TExpr) × Evaluates ls globals t e) ((l : Lval) × Unit {0}) Part TExpr Lval (λ p. p.0) (λ e. e.0) (λ l. l.0) y

value_roll : (ls : Locals) (x : TExpr-F Part TExpr Lval) → value ls (roll-TExpr x) ≡ value_layer ls (map-TExpr Part TExpr Lval (Unit {0}) (Option Value) (Unit {0}) (λ p. tt) (value ls) (λ l. tt) x)
unfolding value
value_roll ls x = fold-roll-TExpr (Unit {0}) (Option Value) (Unit {0}) (λ p. tt) (value_layer ls) (λ l. tt) x

-- what the machine makes of a part of a path
part_result : List GlobalDef → Temps → Part → Result ℤ Cause
part_result globals t = fold-Part (Result ℤ Cause) Evaluated Evaluated part_layer (expression_layer t) (place_layer globals t)

eval_roll : (globals : List GlobalDef) (t : Temps) (x : TExpr-F Part TExpr Lval)
    → eval globals t (roll-TExpr x) ≡ expression_layer t (map-TExpr Part TExpr Lval (Result ℤ Cause) Evaluated Evaluated (part_result globals t) (eval globals t) (address globals t) x)
unfolding eval address part_result
eval_roll globals t x = fold-roll-TExpr (Result ℤ Cause) Evaluated Evaluated part_layer (expression_layer t) (place_layer globals t) x

-- ---- numbers

signed_below : (n : ℕ) → is_signed (pos n) ≡ true → nat_lt n 2147483648 ≡ true
signed_below n h = grind (arith, nat_tests)

signed_pos : (n : ℕ) → is_signed (pos n) ≡ true → signed n ≡ pos n
signed_pos n h = rw (signed_below n h) refl

arithmetic_is : (z : ℤ) → is_signed z ≡ true → arithmetic Signed z ≡ Ok (Int (wrapped z))
arithmetic_is z h = rw h refl

-- ---- parts of a proved expression

some_is : (v w : Value) → Some v ≡ Some w → v ≡ w
some_is v w h = cc

local_is : (o : Option (Option ℕ)) (v : Value) → local_value o ≡ Some v → o ≡ Some (Some v.number)
local_is None v h = absurd (cc)
local_is (Some None) v h = absurd (cc)
local_is (Some (Some n)) v h = ap (λ (w : Value). Some (Some w.number)) (some_is (record { number = n; owed = [] }) v h)

-- the operands' values and the result of a sum or a difference
record Parts (o : BinOp) (k : Kind) (x y : Option Value) (v : Value) : Type 0 where
  first : Value
  second : Value
  result : ℤ
  first_is : x ≡ Some first
  second_is : y ≡ Some second
  value_is : computed first second result ≡ v
  does : (a b : ℕ) → signed a ≡ pos first.number → signed b ≡ pos second.number → binary o k a b ≡ arithmetic Signed result

parts_of : (o : BinOp) (k : Kind) (x y : Option Value) (v : Value) → binary_value o k x y ≡ Some v → Parts o k x y v
parts_of op.Add Signed (Some a) (Some b) v h = record {
  first = a;
  second = b;
  result = pos a.number +ℤ pos b.number;
  first_is = refl;
  second_is = refl;
  value_is = some_is _ v h;
  does = λ c d e f. rw (e, f) refl;
}
parts_of op.Sub Signed (Some a) (Some b) v h = record {
  first = a;
  second = b;
  result = pos a.number -ℤ pos b.number;
  first_is = refl;
  second_is = refl;
  value_is = some_is _ v h;
  does = λ c d e f. rw (e, f) refl;
}
parts_of op.Add Signed None y v h = absurd (cc)
parts_of op.Add Signed (Some a) None v h = absurd (cc)
parts_of op.Sub Signed None y v h = absurd (cc)
parts_of op.Sub Signed (Some a) None v h = absurd (cc)
parts_of _ _ _ _ v h = absurd (cc)

and_left : (a b : Bool) → (a && b) ≡ true → a ≡ true
and_left true b h = refl
and_left false b h = cc

and_right : (a b : Bool) → (a && b) ≡ true → b ≡ true
and_right true b h = h
and_right false b h = cc

-- what is owed of an operation, by its parts
record Owes (a b : Value) (z : ℤ) : Type 0 where
  left : is_proved a ≡ true
  right : is_proved b ≡ true
  first : is_signed (pos a.number) ≡ true
  second : is_signed (pos b.number) ≡ true
  result : is_signed z ≡ true

owes : (a b : Value) (z : ℤ) → is_proved (computed a b z) ≡ true → Owes a b z
owes a b z h =
    let last : List ℤ = pos a.number ∷ pos b.number ∷ z ∷ [] in
    let all : (list_all is_signed (a.owed ++ b.owed) && list_all is_signed last) ≡ true = sym (list_all-append is_signed (a.owed ++ b.owed) last) ∙ h in
    let both : (list_all is_signed a.owed && list_all is_signed b.owed) ≡ true = sym (list_all-append is_signed a.owed b.owed) ∙ and_left (list_all is_signed (a.owed ++ b.owed)) (list_all is_signed last) all in
    let three : list_all is_signed last ≡ true = and_right (list_all is_signed (a.owed ++ b.owed)) (list_all is_signed last) all in
    record {
      left = and_left (list_all is_signed a.owed) (list_all is_signed b.owed) both;
      right = and_right (list_all is_signed a.owed) (list_all is_signed b.owed) both;
      first = and_left (is_signed (pos a.number)) _ three;
      second = and_left (is_signed (pos b.number)) _ (and_right (is_signed (pos a.number)) _ three);
      result = and_left (is_signed z) true (and_right (is_signed (pos b.number)) _ (and_right (is_signed (pos a.number)) _ three));
    }

step_binary : (ls : Locals) (globals : List GlobalDef) (t : Temps) (o : BinOp) (k : Kind) (a b : (e : TExpr) × Evaluates ls globals t e) (v : Value)
    → binary_value o k (value ls a.0) (value ls b.0) ≡ Some v → is_proved v ≡ true
    → on_ok (eval globals t a.0) (λ x. on_ok (eval globals t b.0) (λ y. on_int x (λ m. on_int y (λ n. binary o k m n)))) ≡ Ok (Int v.number)
step_binary ls globals t o k a b v h p =
    let q = parts_of o k (value ls a.0) (value ls b.0) v h in
    let w : Owes q.first q.second q.result = owes q.first q.second q.result (subst (λ (u : Value). is_proved u ≡ true) (sym q.value_is) p) in
    let x : eval globals t a.0 ≡ Ok (Int q.first.number) = a.1 q.first q.first_is w.left in
    let y : eval globals t b.0 ≡ Ok (Int q.second.number) = b.1 q.second q.second_is w.right in
    rw (x, y) (q.does q.first.number q.second.number (signed_pos q.first.number w.first) (signed_pos q.second.number w.second) ∙ (arithmetic_is q.result w.result ∙ ap (λ (u : Value). Ok (Int u.number)) q.value_is))

step : (ls : Locals) (globals : List GlobalDef) (t : Temps) → Matches ls t → (y : Layer ls globals t) → Evaluates ls globals t (roll-TExpr (plain ls globals t y))
step ls globals t m (expression.Const n) = λ v h p. eval_roll globals t (expression.Const n) ∙ ap (λ (w : Value). Ok (Int w.number)) (some_is _ v (sym (value_roll ls (expression.Const n)) ∙ h))
step ls globals t m (expression.Temp i) = λ v h p. eval_roll globals t (expression.Temp i) ∙ ap Ok (matches_at ls t i v.number m (local_is (slice_get ls i) v (sym (value_roll ls (expression.Temp i)) ∙ h)))
step ls globals t m (expression.Addr l) = λ v h p. let e : None ≡ Some v = sym (value_roll ls (expression.Addr l.0)) ∙ h in absurd (cc)
step ls globals t m (expression.Unary o k a) = λ v h p. let e : None ≡ Some v = sym (value_roll ls (expression.Unary o k a.0)) ∙ h in absurd (cc)
step ls globals t m (expression.Binary o k a b) = λ v h p. eval_roll globals t (expression.Binary o k a.0 b.0) ∙ step_binary ls globals t o k a b v (sym (value_roll ls (expression.Binary o k a.0 b.0)) ∙ h) p

pub evaluates : (ls : Locals) (globals : List GlobalDef) (t : Temps) → Matches ls t → (e : TExpr) → Evaluates ls globals t e
evaluates ls globals t m = ind-TExpr (λ p. Unit {0}) (Evaluates ls globals t) (λ l. Unit {0}) (λ x y is. tt) (λ x y is. subst (λ z. Evaluates ls globals t (roll-TExpr z)) is (step ls globals t m y)) (λ x y is. tt)
