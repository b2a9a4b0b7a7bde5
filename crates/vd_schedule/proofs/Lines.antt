-- Lines of entries.
use Rattle.std.proofs.Common.{◌≡◌, ℕ, ◌^◌, ◌<◌, Bool, true, false, not, ◌==◌, List, [], ◌∷◌, ◌++◌, get_or, Option, None, Some, MatchOption, decimal, refl, ap, sym, ◌∙◌, arith, inl, inr}
use Rattle.std.specs.Str.Parse.{AllDigits}
use Rattle.std.proofs.lemmas.Bool.Decides.{eqb_tells}
use Rattle.std.proofs.lemmas.Fmt.{decimal_is_IsNumeral, decimal_injective}
use Rattle.std.proofs.lemmas.Str.Parse.{digit_from_value}
use Rattle.vd_outline.specs.Lines.{lacks}
use Rattle.vd_outline.proofs.Cuts.{both_true, cut_unique, uncut, lacks-append}
use Rattle.vd_schedule.specs.declared.entry.Entry.{Entry}
use Rattle.vd_schedule.specs.Entries.{pick_digit, line_of, IsEntry, BeginsWithEntry}

-- a byte below the digits is not among them
lacks-digits : (byte : ℕ) (ds : List ℕ) → byte < 48 → AllDigits 10 ds → lacks byte ds ≡ true
lacks-digits byte [] low all = refl
lacks-digits byte (d ∷ ds) low all =
    let digit = digit_from_value d all.0 in
    both_true (not (d == byte)) (lacks byte ds) (elim (eqb_tells d byte) [
      | inl e ↦ absurd (omega (arith, digit, e.1))
      | inr e ↦ ap not e.0
    ]) (lacks-digits byte ds low all.1)

-- nor in a number
pub lacks-decimal : (byte n : ℕ) → byte < 48 → n < 2 ^ 32 → lacks byte (decimal n) ≡ true
lacks-decimal byte n low small = lacks-digits byte (decimal n) low (decimal_is_IsNumeral n (omega arith)).0.1

lacks-pick : (byte : ℕ) (pick : Bool) → byte < 48 → lacks byte (pick_digit pick ∷ []) ≡ true
lacks-pick byte true low = both_true (not (49 == byte)) true (elim (eqb_tells 49 byte) [ inl e ↦ absurd (omega (arith, e.1)) | inr e ↦ ap not e.0 ]) refl
lacks-pick byte false low = both_true (not (48 == byte)) true (elim (eqb_tells 48 byte) [ inl e ↦ absurd (omega (arith, e.1)) | inr e ↦ ap not e.0 ]) refl

-- a line has no line feed within
pub lacks-line_of : (e : Entry) → IsEntry e → lacks 10 (line_of e) ≡ true
lacks-line_of e is =
    lacks-append 10 (decimal e.thread) (32 ∷ pick_digit e.pick ∷ 32 ∷ decimal e.count) (lacks-decimal 10 e.thread (omega arith) is.thread)
    (both_true true _ refl (lacks-append 10 (pick_digit e.pick ∷ []) (32 ∷ decimal e.count) (lacks-pick 10 e.pick (omega arith)) (both_true true _ refl (lacks-decimal 10 e.count (omega arith) is.count))))

-- ---- the parts of a line

-- the parts are those of this entry
pub record HasParts (thread pick count : List ℕ) (e : Entry) : Type 0 where
  pub thread_is : thread ≡ decimal e.thread
  pub pick_is : pick ≡ pick_digit e.pick ∷ []
  pub count_is : count ≡ decimal e.count

-- a line that is cut at its spaces has the entry's parts
pub cut_line : (line thread behind : List ℕ) (e : Entry) → line ≡ thread ++ 32 ∷ behind → lacks 32 thread ≡ true → IsEntry e → line ≡ line_of e → (thread ≡ decimal e.thread) × (behind ≡ pick_digit e.pick ∷ 32 ∷ decimal e.count)
cut_line line thread behind e cut one is whole =
    cut_unique 32 thread behind (decimal e.thread) (pick_digit e.pick ∷ 32 ∷ decimal e.count) one (lacks-decimal 32 e.thread (omega arith) is.thread) (sym cut ∙ whole)

pub cut_behind : (behind pick count : List ℕ) (e : Entry) → behind ≡ pick ++ 32 ∷ count → lacks 32 pick ≡ true → behind ≡ pick_digit e.pick ∷ 32 ∷ decimal e.count → (pick ≡ pick_digit e.pick ∷ []) × (count ≡ decimal e.count)
cut_behind behind pick count e cut one whole =
    cut_unique 32 pick count (pick_digit e.pick ∷ []) (decimal e.count) one (lacks-pick 32 e.pick (omega arith)) (sym cut ∙ whole)

-- what the parts tell, the line tells
pub told_line : (line thread behind pick count : List ℕ) (told : Option Entry) → line ≡ thread ++ 32 ∷ behind → lacks 32 thread ≡ true → behind ≡ pick ++ 32 ∷ count → lacks 32 pick ≡ true
    → MatchOption told ((e : Entry) → IsEntry e → thread ≡ decimal e.thread → pick ≡ pick_digit e.pick ∷ [] → count ≡ decimal e.count → ⊥)
    (λ e. IsEntry e × (thread ≡ decimal e.thread) × (pick ≡ pick_digit e.pick ∷ []) × (count ≡ decimal e.count))
    → MatchOption told ((e : Entry) → IsEntry e → line ≡ line_of e → ⊥) (λ e. IsEntry e × (line ≡ line_of e))
told_line line thread behind pick count None cut one cut' one' told = λ e is whole.
    let a = cut_line line thread behind e cut one is whole in
    let b = cut_behind behind pick count e cut' one' a.1 in
    told e is a.0 b.0 b.1
told_line line thread behind pick count (Some e) cut one cut' one' told =
    let is : IsEntry e = told.0 in
    let a : thread ≡ decimal e.thread = told.1 in
    let b : pick ≡ pick_digit e.pick ∷ [] = told.2 in
    let d : count ≡ decimal e.count = told.3 in
    (is, cc)

-- bytes that lack the space are no line
pub no_thread : (line : List ℕ) (e : Entry) → lacks 32 line ≡ true → line ≡ line_of e → ⊥
no_thread line e one whole = uncut 32 line (decimal e.thread) (pick_digit e.pick ∷ 32 ∷ decimal e.count) one whole

-- nor are those with one space alone
pub no_count : (line thread behind : List ℕ) (e : Entry) → line ≡ thread ++ 32 ∷ behind → lacks 32 thread ≡ true → lacks 32 behind ≡ true → IsEntry e → line ≡ line_of e → ⊥
no_count line thread behind e cut one none is whole =
    let a = cut_line line thread behind e cut one is whole in
    uncut 32 behind (pick_digit e.pick ∷ []) (decimal e.count) none a.1

-- ---- the first line

-- bytes whose first line tells no entry begin with none
pub no_entry : (bytes line after : List ℕ) → bytes ≡ line ++ 10 ∷ after → lacks 10 line ≡ true → ((e : Entry) → IsEntry e → line ≡ line_of e → ⊥) → BeginsWithEntry bytes → ⊥
no_entry bytes line after cut one none begins =
    let both = cut_unique 10 line after (line_of begins.entry) begins.rest one (lacks-line_of begins.entry begins.is) (sym cut ∙ begins.cut) in
    none begins.entry begins.is both.0

-- bytes without a line feed begin with no entry
pub no_line : (bytes : List ℕ) → lacks 10 bytes ≡ true → BeginsWithEntry bytes → ⊥
no_line bytes none begins = uncut 10 bytes (line_of begins.entry) begins.rest none begins.cut

-- ---- one entry a line

pick_unique : (a b : Bool) → pick_digit a ∷ [] ≡ pick_digit b ∷ [] → a ≡ b
pick_unique true true e = refl
pick_unique false false e = refl
pick_unique true false e = absurd (omega (arith, ap (λ x. get_or x 0 0) e))
pick_unique false true e = absurd (omega (arith, ap (λ x. get_or x 0 0) e))

-- a line tells one entry
pub entry_unique : (e f : Entry) → IsEntry e → IsEntry f → line_of e ≡ line_of f → e ≡ f
entry_unique e f is other whole =
    let a = cut_line (line_of e) (decimal e.thread) (pick_digit e.pick ∷ 32 ∷ decimal e.count) f refl (lacks-decimal 32 e.thread (omega arith) is.thread) other whole in
    let b = cut_behind (pick_digit e.pick ∷ 32 ∷ decimal e.count) (pick_digit e.pick ∷ []) (decimal e.count) f refl (lacks-pick 32 e.pick (omega arith)) a.1 in
    let thread : e.thread ≡ f.thread = decimal_injective e.thread f.thread (omega (arith, is.thread)) (omega (arith, other.thread)) a.0 in
    let pick : e.pick ≡ f.pick = pick_unique e.pick f.pick b.0 in
    let count : e.count ≡ f.count = decimal_injective e.count f.count (omega (arith, is.count)) (omega (arith, other.count)) b.1 in
    λ i. record { thread = thread i; pick = pick i; count = count i }
