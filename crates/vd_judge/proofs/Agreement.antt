-- The checker's way and the rules: a part that is found typed has a derivation and no other, and a fault that is answered is the first of the set.
use Rattle.std.proofs.Common.{◌≡◌, ℕ, ◌+◌, ◌*◌, Bool, true, false, not, ◌&&◌, ◌||◌, ◌==◌, nat_lt, cond, List, [], ◌∷◌, Option, None, Some, refl, sym, ap, ◌∙◌, ap₂, subst, arith}
use Rattle.std.proofs.lemmas.Bool.Decides.{nat_tests}
use Rattle.vd_clight.specs.declared.syntax.Expr.{Expr}
use Rattle.vd_clight.specs.declared.syntax.Stmt.{Stmt}
use Rattle.vd_judge.specs.declared.fault.TypeFault.{TypeFault}
use Rattle.vd_judge.specs.declared.checked.Checked.{Checked}
use Rattle.vd_judge.specs.declared.checked.Checked.TheVariants.{Typed, Untyped}
use Rattle.vd_judge.specs.Checked.{also, follows, pair}
use Rattle.vd_judge.specs.Derivation.{Gives, fault_of, Derives, by_itself, by_expression, by_statement, by_resting, by_both, Faulty, itself, in_expression, in_statement, in_part, in_rest, in_left, in_right, is_no_later, leads, IsFirst}
use Rattle.vd_judge.specs.Environment.{Environment}
use Rattle.vd_judge.specs.Fault.{place_of, is_typing, comes_before, first}
use Rattle.vd_judge.specs.Rule.{Rule, says, expression, statement, rests, beside}
use Rattle.vd_judge.specs.Rules.{expression_rule, statement_rule}
use Rattle.vd_judge.specs.Sort.{Sort, Meaning}
use Rattle.vd_judge.specs.Sort as sort

-- ---- the order of faults

rank : TypeFault → ℕ
rank f = 2 * place_of f + cond (is_typing f) 0 1

ranked : (m n : ℕ) (s t : Bool) → (nat_lt m n || ((m == n && s) && not t)) ≡ nat_lt (2 * m + cond s 0 1) (2 * n + cond t 0 1)
ranked m n true true = grind (arith, nat_tests)
ranked m n true false = grind (arith, nat_tests)
ranked m n false true = grind (arith, nat_tests)
ranked m n false false = grind (arith, nat_tests)

before_rank : (f g : TypeFault) → comes_before f g ≡ nat_lt (rank f) (rank g)
unfolding rank
before_rank f g = ranked (place_of f) (place_of g) (is_typing f) (is_typing g)

lt_not : (m n : ℕ) → nat_lt m n ≡ true → nat_lt n m ≡ false
lt_not m n h = grind (arith, nat_tests)

lt_le : (m n k : ℕ) → nat_lt m n ≡ true → nat_lt k n ≡ false → nat_lt m k ≡ true
lt_le m n k h e = grind (arith, nat_tests)

le_le : (m n k : ℕ) → nat_lt n m ≡ false → nat_lt k n ≡ false → nat_lt k m ≡ false
le_le m n k h e = grind (arith, nat_tests)

lt_self : (m : ℕ) → nat_lt m m ≡ false
lt_self m = grind (arith, nat_tests)

not_both : (f g : TypeFault) → comes_before f g ≡ true → comes_before g f ≡ false
not_both f g h = before_rank g f ∙ lt_not (rank f) (rank g) (sym (before_rank f g) ∙ h)

not_itself : (f : TypeFault) → comes_before f f ≡ false
not_itself f = before_rank f f ∙ lt_self (rank f)

before_leads : (f g h : TypeFault) → comes_before f g ≡ true → comes_before h g ≡ false → comes_before f h ≡ true
before_leads f g h e n = before_rank f h ∙ lt_le (rank f) (rank g) (rank h) (sym (before_rank f g) ∙ e) (sym (before_rank h g) ∙ n)

not_before : (f g h : TypeFault) → comes_before g f ≡ false → comes_before h g ≡ false → comes_before h f ≡ false
not_before f g h e n = before_rank h f ∙ le_le (rank f) (rank g) (rank h) (sym (before_rank g f) ∙ e) (sym (before_rank h g) ∙ n)

never_later : (at : List Bool) → is_no_later at at ≡ true
never_later [] = refl
never_later (true ∷ at) = never_later at
never_later (false ∷ at) = never_later at

-- the parts of leading
led : (a b c : Bool) → (a ≡ true → b ≡ false) → (a || (not b && c)) ≡ true → b ≡ false
led true b c x h = x refl
led false true c x h = cc
led false false c x h = refl

leads_not : (at bt : List Bool) (f g : TypeFault) → leads at f bt g ≡ true → comes_before g f ≡ false
leads_not at bt f g h = led (comes_before f g) (comes_before g f) (is_no_later at bt) (not_both f g) h

led_before : (a b c : Bool) → a ≡ true → (a || (not b && c)) ≡ true
led_before true b c e = refl
led_before false b c e = cc

led_read : (a b c : Bool) → b ≡ false → c ≡ true → (a || (not b && c)) ≡ true
led_read true b c e h = refl
led_read false true c e h = cc
led_read false false c e h = h

leads_before : (at bt : List Bool) (f g : TypeFault) → comes_before f g ≡ true → leads at f bt g ≡ true
leads_before at bt f g e = led_before (comes_before f g) (comes_before g f) (is_no_later at bt) e

leads_read : (at bt : List Bool) (f g : TypeFault) → comes_before g f ≡ false → is_no_later at bt ≡ true → leads at f bt g ≡ true
leads_read at bt f g e h = led_read (comes_before f g) (comes_before g f) (is_no_later at bt) e h

-- ---- sets of faults

-- the first of a set, or that it has none
abbrev pub Least : (List Bool → TypeFault → Type 0) → Option TypeFault → Type 0
Least S None = (at : List Bool) (g : TypeFault) → S at g → ⊥
Least S (Some f) = IsFirst S f

-- what is read first, and what is read then
abbrev pub Union : (List Bool → TypeFault → Type 0) → (List Bool → TypeFault → Type 0) → List Bool → TypeFault → Type 0
Union S T [] f = ⊥
Union S T (false ∷ at) f = S at f
Union S T (true ∷ at) f = T at f

module _ (S T : List Bool → TypeFault → Type 0) where
  pub least_same : (o : Option TypeFault) → ((at : List Bool) (g : TypeFault) → S at g → T at g) → ((at : List Bool) (g : TypeFault) → T at g → S at g) → Least S o → Least T o
  least_same None to from none = λ at g h. none at g (from at g h)
  least_same (Some f) to from one = (one.0, to one.0 f one.1, λ bt g h. one.2 bt g (from bt g h))

  left_first : (f g : TypeFault) → comes_before g f ≡ false → IsFirst S f → IsFirst T g → IsFirst (Union S T) f
  left_first f g e one two = (false ∷ one.0, one.1, all) where
    all : (bt : List Bool) (h : TypeFault) → Union S T bt h → leads (false ∷ one.0) f bt h ≡ true
    all [] h u = absurd u
    all (false ∷ bt) h u = one.2 bt h u
    all (true ∷ bt) h u = leads_read (false ∷ one.0) (true ∷ bt) f h (not_before f g h e (leads_not two.0 bt g h (two.2 bt h u))) refl

  right_first : (f g : TypeFault) → comes_before g f ≡ true → IsFirst S f → IsFirst T g → IsFirst (Union S T) g
  right_first f g e one two = (true ∷ two.0, two.1, all) where
    all : (bt : List Bool) (h : TypeFault) → Union S T bt h → leads (true ∷ two.0) g bt h ≡ true
    all [] h u = absurd u
    all (false ∷ bt) h u = leads_before (true ∷ two.0) (false ∷ bt) g h (before_leads g f h e (leads_not one.0 bt f h (one.2 bt h u)))
    all (true ∷ bt) h u = two.2 bt h u

  both_first : (f g : TypeFault) (b : Bool) → comes_before g f ≡ b → IsFirst S f → IsFirst T g → IsFirst (Union S T) (cond b g f)
  both_first f g true e one two = right_first f g e one two
  both_first f g false e one two = left_first f g e one two

  left_alone : (f : TypeFault) → IsFirst S f → ((at : List Bool) (g : TypeFault) → T at g → ⊥) → IsFirst (Union S T) f
  left_alone f one none = (false ∷ one.0, one.1, all) where
    all : (bt : List Bool) (h : TypeFault) → Union S T bt h → leads (false ∷ one.0) f bt h ≡ true
    all [] h u = absurd u
    all (false ∷ bt) h u = one.2 bt h u
    all (true ∷ bt) h u = absurd (none bt h u)

  right_alone : (g : TypeFault) → ((at : List Bool) (f : TypeFault) → S at f → ⊥) → IsFirst T g → IsFirst (Union S T) g
  right_alone g none two = (true ∷ two.0, two.1, all) where
    all : (bt : List Bool) (h : TypeFault) → Union S T bt h → leads (true ∷ two.0) g bt h ≡ true
    all [] h u = absurd u
    all (false ∷ bt) h u = absurd (none bt h u)
    all (true ∷ bt) h u = two.2 bt h u

  no_fault : ((at : List Bool) (f : TypeFault) → S at f → ⊥) → ((at : List Bool) (f : TypeFault) → T at f → ⊥) → (at : List Bool) (f : TypeFault) → Union S T at f → ⊥
  no_fault none also_none [] f u = u
  no_fault none also_none (false ∷ at) f u = none at f u
  no_fault none also_none (true ∷ at) f u = also_none at f u

  pub least_union : (a b : Option TypeFault) → Least S a → Least T b → Least (Union S T) (first a b)
  least_union None None none also_none = no_fault none also_none
  least_union None (Some g) none two = right_alone g none two
  least_union (Some f) None one none = left_alone f one none
  least_union (Some f) (Some g) one two = both_first f g (comes_before g f) refl one two

-- ---- what a checked part gives

also_none : {A : Type 0} (c : Checked A) → also None c ≡ c
also_none (Typed x more) = refl
also_none (Untyped more) = refl

fault-also : {A : Type 0} (o : Option TypeFault) (c : Checked A) → fault_of (also o c) ≡ first o (fault_of c)
fault-also o (Typed x more) = refl
fault-also None (Untyped more) = refl
fault-also (Some f) (Untyped more) = refl

fault-pair : {A B : Type 0} (a : Checked A) (b : Checked B) → fault_of (pair a b) ≡ first (fault_of a) (fault_of b)
fault-pair (Typed x o) (Typed y more) = refl
fault-pair (Typed x o) (Untyped more) = fault-also o (Untyped more)
fault-pair (Untyped f) (Typed y None) = refl
fault-pair (Untyped f) (Typed y (Some more)) = refl
fault-pair (Untyped f) (Untyped more) = refl

gives_typed : {A : Type 0} (normal : Bool) (c : Checked A) (o : Option TypeFault) (y : A) → Gives normal (also o c) y → Gives normal c y
gives_typed true (Typed x None) None y h = h
gives_typed true (Typed x None) (Some f) y h = absurd h
gives_typed true (Typed x (Some g)) None y h = absurd h
gives_typed true (Typed x (Some g)) (Some f) y h = absurd h
gives_typed false (Typed x more) o y h = h
gives_typed true (Untyped g) None y h = absurd h
gives_typed true (Untyped g) (Some f) y h = absurd h
gives_typed false (Untyped g) None y h = absurd h
gives_typed false (Untyped g) (Some f) y h = absurd h

gives_before : {A B : Type 0} (normal : Bool) (c : Checked B) (x : A) (o : Option TypeFault) (y : B) → Gives normal (also o c) y → Gives normal (Typed x o) x
gives_before true c x None y h = refl
gives_before true (Typed z None) x (Some f) y h = absurd h
gives_before true (Typed z (Some g)) x (Some f) y h = absurd h
gives_before true (Untyped g) x (Some f) y h = absurd h
gives_before false c x o y h = refl

-- what rests on a part is given with it
gives_rest : {A B : Type 0} (normal : Bool) (c : Checked A) (d : A → Checked B) (y : B) → Gives normal (follows c d) y → (x : A) × Gives normal c x × Gives normal (d x) y
gives_rest normal (Typed x o) d y h = (x, gives_before normal (d x) x o y h, gives_typed normal (d x) o y h)
gives_rest true (Untyped f) d y h = absurd h
gives_rest false (Untyped f) d y h = absurd h

gives_also : {B : Type 0} (c : Checked B) (o : Option TypeFault) (y : B) → Gives false c y → Gives false (also o c) y
gives_also (Typed x more) o y h = h
gives_also (Untyped f) o y h = absurd h

gives_follows : {A B : Type 0} (normal : Bool) (c : Checked A) (d : A → Checked B) (x : A) (y : B) → Gives normal c x → Gives normal (d x) y → Gives normal (follows c d) y
gives_follows true (Typed z None) d x y e h = subst (λ w. Gives true w y) (sym (also_none (d z))) (subst (λ w. Gives true (d w) y) (sym e) h)
gives_follows true (Typed z (Some f)) d x y e h = absurd e
gives_follows true (Untyped f) d x y e h = absurd e
gives_follows false (Typed z o) d x y e h = gives_also (d z) o y (subst (λ w. Gives false (d w) y) (sym e) h)
gives_follows false (Untyped f) d x y e h = absurd e

gives_left : {A B : Type 0} (normal : Bool) (a : Checked A) (b : Checked B) (z : A × B) → Gives normal (pair a b) z → Gives normal a z.0
gives_left true (Typed x None) (Typed y None) z h = ap (λ p. p.0) h
gives_left true (Typed x None) (Typed y (Some g)) z h = absurd h
gives_left true (Typed x (Some f)) (Typed y None) z h = absurd h
gives_left true (Typed x (Some f)) (Typed y (Some g)) z h = absurd h
gives_left false (Typed x o) (Typed y more) z h = ap (λ p. p.0) h
gives_left true (Typed x None) (Untyped g) z h = absurd h
gives_left true (Typed x (Some f)) (Untyped g) z h = absurd h
gives_left false (Typed x None) (Untyped g) z h = absurd h
gives_left false (Typed x (Some f)) (Untyped g) z h = absurd h
gives_left true (Untyped f) (Typed y None) z h = absurd h
gives_left true (Untyped f) (Typed y (Some g)) z h = absurd h
gives_left false (Untyped f) (Typed y None) z h = absurd h
gives_left false (Untyped f) (Typed y (Some g)) z h = absurd h
gives_left true (Untyped f) (Untyped g) z h = absurd h
gives_left false (Untyped f) (Untyped g) z h = absurd h

gives_right : {A B : Type 0} (normal : Bool) (a : Checked A) (b : Checked B) (z : A × B) → Gives normal (pair a b) z → Gives normal b z.1
gives_right true (Typed x None) (Typed y None) z h = ap (λ p. p.1) h
gives_right true (Typed x None) (Typed y (Some g)) z h = absurd h
gives_right true (Typed x (Some f)) (Typed y None) z h = absurd h
gives_right true (Typed x (Some f)) (Typed y (Some g)) z h = absurd h
gives_right false (Typed x o) (Typed y more) z h = ap (λ p. p.1) h
gives_right true (Typed x None) (Untyped g) z h = absurd h
gives_right true (Typed x (Some f)) (Untyped g) z h = absurd h
gives_right false (Typed x None) (Untyped g) z h = absurd h
gives_right false (Typed x (Some f)) (Untyped g) z h = absurd h
gives_right true (Untyped f) (Typed y None) z h = absurd h
gives_right true (Untyped f) (Typed y (Some g)) z h = absurd h
gives_right false (Untyped f) (Typed y None) z h = absurd h
gives_right false (Untyped f) (Typed y (Some g)) z h = absurd h
gives_right true (Untyped f) (Untyped g) z h = absurd h
gives_right false (Untyped f) (Untyped g) z h = absurd h

gives_pair : {A B : Type 0} (normal : Bool) (a : Checked A) (b : Checked B) (x : A) (y : B) → Gives normal a x → Gives normal b y → Gives normal (pair a b) (x, y)
gives_pair true (Typed z None) (Typed w None) x y e h = ap₂ (λ p q. (p, q)) e h
gives_pair true (Typed z None) (Typed w (Some g)) x y e h = absurd h
gives_pair true (Typed z (Some f)) b x y e h = absurd e
gives_pair true (Typed z None) (Untyped g) x y e h = absurd h
gives_pair true (Untyped f) b x y e h = absurd e
gives_pair false (Typed z o) (Typed w more) x y e h = ap₂ (λ p q. (p, q)) e h
gives_pair false (Typed z o) (Untyped g) x y e h = absurd h
gives_pair false (Untyped f) b x y e h = absurd e

-- ---- agreement

module _ (env : Environment) where
  -- how something is derived, by the rule as it stands
  abbrev Derived : {s : Sort} → Bool → Rule s → Meaning s → Type 0
  Derived normal (says c) x = Gives normal c x
  Derived normal (expression e) x = Derives env normal sort.found (expression_rule env e) x
  Derived normal (statement t) x = Derives env normal sort.statement (statement_rule env t) x
  Derived {s = t} normal (rests {s = s} r k) y = (x : Meaning s) × Derives env normal s r x × Derives env normal t (k x) y
  Derived normal (beside {s = s} {t = t} r q) z = Derives env normal s r z.0 × Derives env normal t q z.1

  derived : {s : Sort} {normal : Bool} {r : Rule s} {x : Meaning s} → Derives env normal s r x → Derived normal r x
  derived (by_itself h) = h
  derived (by_expression d) = d
  derived (by_statement d) = d
  derived (by_resting {x = x} d k) = (x, d, k)
  derived (by_both d e) = (d, e)

  -- the faults of what rests on a part
  abbrev Later : {s t : Sort} → Rule s → (Meaning s → Rule t) → List Bool → TypeFault → Type 0
  Later {s = s} {t = t} r k at f = (x : Meaning s) × Derives env false s r x × Faulty env t (k x) at f

  abbrev Found : {s : Sort} → Rule s → List Bool → TypeFault → Type 0
  Found (says c) at f = (at ≡ []) × (fault_of c ≡ Some f)
  Found (expression e) at f = Faulty env sort.found (expression_rule env e) at f
  Found (statement t) at f = Faulty env sort.statement (statement_rule env t) at f
  Found (rests {s = s} r k) at f = Union (Faulty env s r) (Later r k) at f
  Found (beside {s = s} {t = t} r q) at f = Union (Faulty env s r) (Faulty env t q) at f

  found : {s : Sort} {r : Rule s} {at : List Bool} {f : TypeFault} → Faulty env s r at f → Found r at f
  found (itself h) = (refl, h)
  found (in_expression h) = h
  found (in_statement h) = h
  found (in_part h) = h
  found (in_rest {x = x} d h) = (x, d, h)
  found (in_left h) = h
  found (in_right h) = h

  -- a checked part is what the rule gives, and its fault the first
  pub record Agrees {s : Sort} (r : Rule s) (c : Checked (Meaning s)) : Type 0 where
    pub sound : (normal : Bool) (x : Meaning s) → Gives normal c x → Derives env normal s r x
    pub complete : (normal : Bool) (x : Meaning s) → Derives env normal s r x → Gives normal c x
    pub faults : Least (Faulty env s r) (fault_of c)

  says_least : (s : Sort) (c : Checked (Meaning s)) (o : Option TypeFault) → fault_of c ≡ o → Least (Faulty env s (says {s = s} c)) o
  says_least s c None e = λ at g h. let j : fault_of c ≡ Some g = (found h).1 in cc
  says_least s c (Some f) e = ([], itself e, all) where
    all : (bt : List Bool) (g : TypeFault) → Faulty env s (says {s = s} c) bt g → leads [] f bt g ≡ true
    all bt g h = let j : fault_of c ≡ Some g = (found h).1 in let same : f ≡ g = cc in leads_read [] bt f g (subst (λ w. comes_before w f ≡ false) same (not_itself f)) refl

  pub agrees_says : {s : Sort} (c : Checked (Meaning s)) → Agrees (says {s = s} c) c
  agrees_says {s = s} c = record { sound = λ normal x h. by_itself h; complete = λ normal x d. derived d; faults = says_least s c (fault_of c) refl }

  rest_to : {s t : Sort} (r : Rule s) (k : Meaning s → Rule t) (at : List Bool) (g : TypeFault) → Union (Faulty env s r) (Later r k) at g → Faulty env t (rests r k) at g
  rest_to r k [] g u = absurd u
  rest_to r k (false ∷ at) g u = in_part u
  rest_to r k (true ∷ at) g u = in_rest u.1 u.2

  both_to : {s t : Sort} (r : Rule s) (q : Rule t) (at : List Bool) (g : TypeFault) → Union (Faulty env s r) (Faulty env t q) at g → Faulty env (sort.both s t) (beside r q) at g
  both_to r q [] g u = absurd u
  both_to r q (false ∷ at) g u = in_left u
  both_to r q (true ∷ at) g u = in_right u

  module _ {s t : Sort} (r : Rule s) (k : Meaning s → Rule t) (d : Meaning s → Checked (Meaning t)) (rests_agree : (x : Meaning s) → Agrees (k x) (d x)) where
    later_faults : (c : Checked (Meaning s)) → Agrees r c → Least (Union (Faulty env s r) (Later r k)) (fault_of (follows c d))
    later_faults (Typed x o) a =
        subst (Least (Union (Faulty env s r) (Later r k))) (sym (fault-also o (d x)))
        (least_union (Faulty env s r) (Later r k) o (fault_of (d x)) a.faults
        (least_same (Faulty env t (k x)) (Later r k) (fault_of (d x)) (λ at g h. (x, a.sound false x refl, h)) (λ at g h. subst (λ w. Faulty env t (k w) at g) (sym (a.complete false h.0 h.1)) h.2) (rests_agree x).faults))
    later_faults (Untyped f) a = least_union (Faulty env s r) (Later r k) (Some f) None a.faults (λ at g h. a.complete false h.0 h.1)

    pub agrees_rests : (c : Checked (Meaning s)) → Agrees r c → Agrees (rests r k) (follows c d)
    agrees_rests c a = record {
      sound = λ normal y h. let g = gives_rest normal c d y h in by_resting (a.sound normal g.0 g.1) ((rests_agree g.0).sound normal y g.2);
      complete = λ normal y h. let p = derived h in gives_follows normal c d p.0 y (a.complete normal p.0 p.1) ((rests_agree p.0).complete normal y p.2);
      faults = least_same (Union (Faulty env s r) (Later r k)) (Faulty env t (rests r k)) (fault_of (follows c d)) (rest_to r k) (λ at g h. found h) (later_faults c a);
    }

  pub agrees_both : {s t : Sort} (r : Rule s) (q : Rule t) (a : Checked (Meaning s)) (b : Checked (Meaning t)) → Agrees r a → Agrees q b → Agrees (beside r q) (pair a b)
  agrees_both {s = s} {t = t} r q a b one two = record {
    sound = λ normal z h. by_both (one.sound normal z.0 (gives_left normal a b z h)) (two.sound normal z.1 (gives_right normal a b z h));
    complete = λ normal z h. let p = derived h in gives_pair normal a b z.0 z.1 (one.complete normal z.0 p.0) (two.complete normal z.1 p.1);
    faults = least_same (Union (Faulty env s r) (Faulty env t q)) (Faulty env (sort.both s t) (beside r q)) (fault_of (pair a b)) (both_to r q) (λ at g h. found h)
        (subst (Least (Union (Faulty env s r) (Faulty env t q))) (sym (fault-pair a b)) (least_union (Faulty env s r) (Faulty env t q) (fault_of a) (fault_of b) one.faults two.faults));
  }

  pub agrees_expression : (e : Expr) (c : Checked (Meaning sort.found)) → Agrees (expression_rule env e) c → Agrees (expression e) c
  agrees_expression e c a = record {
    sound = λ normal x h. by_expression (a.sound normal x h);
    complete = λ normal x d. a.complete normal x (derived d);
    faults = least_same (Faulty env sort.found (expression_rule env e)) (Faulty env sort.found (expression e)) (fault_of c) (λ at g h. in_expression h) (λ at g h. found h) a.faults;
  }

  pub agrees_statement : (t : Stmt) (c : Checked (Meaning sort.statement)) → Agrees (statement_rule env t) c → Agrees (statement t) c
  agrees_statement t c a = record {
    sound = λ normal x h. by_statement (a.sound normal x h);
    complete = λ normal x d. a.complete normal x (derived d);
    faults = least_same (Faulty env sort.statement (statement_rule env t)) (Faulty env sort.statement (statement t)) (fault_of c) (λ at g h. in_statement h) (λ at g h. found h) a.faults;
  }
