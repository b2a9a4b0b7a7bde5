-- One declaration more.
use Rattle.std.proofs.Common.{ℕ, suc, ◌+◌, ◌<◌, ◌≡◌, Bool, true, false, ◌||◌, List, [], ◌∷◌, ◌++◌, length, take, get_or, Option, Some, None, refl, sym, ◌∙◌, ap, subst, arith, zero-add, append_assoc, length-append}
use Rattle.std.proofs.lemmas.List.{take_more}
use Rattle.std.specs.Prelude.{if◌then◌else◌}
use Rattle.std.specs.Option.{is_some}
use Rattle.std.specs.Str.{bytes_eq}
use Rattle.std.proofs.lemmas.Bool.Decides.{same_from_decides}
use Rattle.std.proofs.lemmas.List.Folds.{list_any-append}
use Rattle.std.proofs.lemmas.Slice.Eq.{bytes_eq-Decides}
use Rattle.std.proofs.Math.Path.{fun_ext}
use Rattle.vd_clight.specs.declared.program.Signature.{Signature}
use Rattle.vd_logic.specs.declared.assertion.Assertion.{Assertion}
use Rattle.vd_logic.specs.declared.assertion.Spec.{Spec}
use Rattle.vd_logic.specs.declared.term.Sort.{Sort}
use Rattle.vd_logic_grammar.specs.declared.parts.AssertionText.{AssertionText}
use Rattle.vd_assertion_text.specs.declared.variables.Variables.{Variables}
use Rattle.vd_assertion_text.specs.Lookup.{variable_in, Stands}
use Rattle.vd_logic_grammar.specs.Variables.{later, variable_from, is_declared, hides, numbered_by, numbered_assertion, with_result, spec_of}

later_test : (b : Bool) (v : ℕ × Sort) (o first : Option (ℕ × Sort)) → later (if b then Some v else o) first ≡ (if b then Some v else later o first)
later_test true v o first = refl
later_test false v o first = refl

-- A name that is declared last stands for that variable, and any other for what it stood for.
pub variable_snoc : (n : ℕ) (ds : List (List ℕ × Sort)) (d : List ℕ × Sort) (name : List ℕ)
    → variable_from n (ds ++ d ∷ []) name ≡ (if bytes_eq d.0 name then Some (n + length ds, d.1) else variable_from n ds name)
variable_snoc n [] d name = let e : n ≡ n + 0 = omega arith in ap (λ k. if bytes_eq d.0 name then Some (k, d.1) else None) e
variable_snoc n (x ∷ ds) d name =
    let e : suc n + length ds ≡ n + suc (length ds) = omega arith in
    ap (λ o. later o (if bytes_eq x.0 name then Some (n, x.1) else None)) (variable_snoc (suc n) ds d name)
    ∙ (later_test (bytes_eq d.0 name) (suc n + length ds, d.1) (variable_from (suc n) ds name) (if bytes_eq x.0 name then Some (n, x.1) else None)
    ∙ ap (λ k. if bytes_eq d.0 name then Some (k, d.1) else variable_from n (x ∷ ds) name) e)

bytes_eq_sym : (xs ys : List ℕ) → bytes_eq xs ys ≡ bytes_eq ys xs
bytes_eq_sym xs ys = let d = bytes_eq-Decides ys xs in same_from_decides _ _ (bytes_eq-Decides xs ys) (λ e. sym (d.0 e), λ e. d.1 (sym e))

or_exchange : (a b c d : Bool) → ((a || (b || false)) || (c || d)) ≡ ((a || c) || (b || d))
or_exchange true b c d = refl
or_exchange false true true d = refl
or_exchange false true false d = refl
or_exchange false false true d = refl
or_exchange false false false d = refl

-- One more name hides another where it is declared already.
hides_snoc : (ds : List (List ℕ × Sort)) (d : List ℕ × Sort) → hides (ds ++ d ∷ []) ≡ (hides ds || is_declared ds d.0)
hides_snoc [] d = refl
hides_snoc (x ∷ ds) d =
    let one : is_declared (ds ++ d ∷ []) x.0 ≡ (is_declared ds x.0 || (bytes_eq x.0 d.0 || false)) =
    list_any-append (λ (y : List ℕ × Sort). bytes_eq y.0 x.0) ds (d ∷ []) ∙ ap (λ b. is_declared ds x.0 || (b || false)) (bytes_eq_sym d.0 x.0) in
    ap (λ b. b || hides (ds ++ d ∷ [])) one
    ∙ (ap (λ b. (is_declared ds x.0 || (bytes_eq x.0 d.0 || false)) || b) (hides_snoc ds d)
    ∙ or_exchange (is_declared ds x.0) (bytes_eq x.0 d.0) (hides ds) (is_declared ds d.0))

is_some_later : (b : Bool) (v : ℕ × Sort) (o : Option (ℕ × Sort)) → is_some (later o (if b then Some v else None)) ≡ (b || is_some o)
is_some_later true v None = refl
is_some_later true v (Some w) = refl
is_some_later false v None = refl
is_some_later false v (Some w) = refl

-- A name is declared where it stands for a variable.
declared_is : (n : ℕ) (ds : List (List ℕ × Sort)) (name : List ℕ) → is_some (variable_from n ds name) ≡ is_declared ds name
declared_is n [] name = refl
declared_is n (d ∷ ds) name =
    is_some_later (bytes_eq d.0 name) (n, d.1) (variable_from (suc n) ds name) ∙ ap (λ b. bytes_eq d.0 name || b) (declared_is (suc n) ds name)

-- What a table says of each name is what the declarations say.
pub numbered_same : (f : List ℕ → Option (ℕ × Sort)) (before : List (List ℕ × Sort)) (a : AssertionText) → ((name : List ℕ) → f name ≡ variable_from 0 (before ++ a.opened) name)
    → numbered_by f a ≡ numbered_assertion before a
numbered_same f before a h = ap (λ g. numbered_by g a) (fun_ext h)

-- What names stand for with one more behind them.
stands_next : (old new : Variables) (ds : List (List ℕ × Sort)) (name : List ℕ) (s : Sort) → Stands old ds
    → ((other : List ℕ) → variable_in new other ≡ (if bytes_eq name other then Some (old.count, s) else variable_in old other)) → new.count ≡ old.count + 1
    → new.hides ≡ (old.hides || is_some (variable_in old name)) → Stands new (ds ++ (name, s) ∷ [])
stands_next old new ds name s h names count hidden = record {
  count = count ∙ (ap (λ k. k + 1) h.count ∙ sym (length-append ds ((name, s) ∷ [])));
  numbers = λ other. names other ∙ (ap (λ k. if bytes_eq name other then Some (k, s) else variable_in old other) h.count
      ∙ (ap (λ o. if bytes_eq name other then Some (length ds, s) else o) (h.numbers other)
      ∙ (ap (λ k. if bytes_eq name other then Some (k, s) else variable_from 0 ds other) (sym (zero-add (length ds))) ∙ sym (variable_snoc 0 ds (name, s) other))));
  hides = hidden ∙ (ap (λ b. b || is_some (variable_in old name)) h.hides ∙ (ap (λ o. hides ds || is_some o) (h.numbers name)
      ∙ (ap (λ b. hides ds || b) (declared_is 0 ds name) ∙ sym (hides_snoc ds (name, s)))));
}

-- the names of an array, one by one
pub stands_more : (old new : Variables) (before ds : List (List ℕ × Sort)) (n : ℕ) (d : List ℕ × Sort) (name : List ℕ) (s : Sort) → n < length ds → name ≡ (get_or ds n d).0 → s ≡ (get_or ds n d).1
    → Stands old (before ++ take n ds) → ((other : List ℕ) → variable_in new other ≡ (if bytes_eq name other then Some (old.count, s) else variable_in old other)) → new.count ≡ old.count + 1
    → new.hides ≡ (old.hides || is_some (variable_in old name)) → Stands new (before ++ take (n + 1) ds)
stands_more old new before ds n d name s below e f h names count hidden =
    let whole : (name, s) ≡ get_or ds n d = ap (λ a. (a, s)) e ∙ ap (λ b. ((get_or ds n d).0, b)) f in
    let grown : before ++ take (n + 1) ds ≡ (before ++ take n ds) ++ (name, s) ∷ [] =
    ap (λ x. before ++ x) (take_more ds n d below) ∙ (ap (λ x. before ++ (take n ds ++ x ∷ [])) (sym whole) ∙ sym (append_assoc before (take n ds) ((name, s) ∷ []))) in
    subst (Stands new) (sym grown) (stands_next old new (before ++ take n ds) name s h names count hidden)

-- no name
pub stands_nothing : (v : Variables) → ((name : List ℕ) → variable_in v name ≡ None) → v.count ≡ 0 → v.hides ≡ false → Stands v []
stands_nothing v names count hidden = record { count = count; numbers = names; hides = hidden }

abbrev spec_with : Signature → List (List ℕ × Sort) → Assertion → Assertion → Spec
spec_with f names pre post = record { ret = f.ret; name = f.name; params = f.params; with = names; pre = pre; post = post }

-- a specification of numbered assertions
pub spec_same : (f : Signature) (names all : List (List ℕ × Sort)) (pre post : AssertionText) (a b : Assertion) → a ≡ numbered_assertion names pre → all ≡ with_result names → b ≡ numbered_assertion all post
    → spec_with f names a b ≡ spec_of f names pre post
spec_same f names all pre post a b p e q =
    ap (λ x. spec_with f names x b) p ∙ ap (λ y. spec_with f names (numbered_assertion names pre) y) (q ∙ ap (λ l. numbered_assertion l post) e)
