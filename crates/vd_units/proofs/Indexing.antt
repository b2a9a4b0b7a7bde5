-- The index of texts: what one more makes of it.
use Rattle.std.proofs.Common.{◌≡◌, ℕ, Bool, true, false, cond, List, [], ◌∷◌, ◌++◌, Option, None, Some, Bor, refl, ap, sym, ◌∙◌, subst, option_map}
use Rattle.std.proofs.lemmas.Slice.Eq.{bytes_eq-Decides}
use Rattle.std.specs.List.{find}
use Rattle.std.specs.Option.{option_or, is_some}
use Rattle.std.specs.Str.{bytes_eq}
use Rattle.vd_outline.specs.Outline.{Bytes}
use Rattle.vd_linkage.specs.Form.{Entry}
use Rattle.vd_linkage.specs.Texts.{text_named}
use Rattle.vd_singles.proofs.Tables.{Changes, at_name, put}
use Rattle.vd_units.specs.declared.texts.Index.{Index}
use Rattle.vd_units.specs.Index.{IsIndexOf}

named_push : (other : Bytes) (entries : List Entry) (e : Entry) → text_named other (entries ++ e ∷ []) ≡ option_or (text_named other entries) (cond (bytes_eq e.0 other) (Some e.2) None)
named_push other [] e = by (bytes_eq e.0 other) where
  by : (b : Bool) → option_map (λ (t : Entry). t.2) (cond b (Some e) None) ≡ cond b (Some e.2) None
  by true = refl
  by false = refl
named_push other (x ∷ entries) e = by (bytes_eq x.0 other) (named_push other entries e) where
  by : (b : Bool) → text_named other (entries ++ e ∷ []) ≡ option_or (text_named other entries) (cond (bytes_eq e.0 other) (Some e.2) None)
      → option_map (λ (t : Entry). t.2) (cond b (Some x) (find (λ (t : Entry). bytes_eq t.0 other) (entries ++ e ∷ [])))
      ≡ option_or (option_map (λ (t : Entry). t.2) (cond b (Some x) (find (λ (t : Entry). bytes_eq t.0 other) entries))) (cond (bytes_eq e.0 other) (Some e.2) None)
  by true h = refl
  by false h = h

or_none : (o : Option Bytes) → option_or o None ≡ o
or_none None = refl
or_none (Some x) = refl

or_some : (o p : Option Bytes) → is_some o ≡ true → option_or o p ≡ o
or_some None p e = absurd (cc)
or_some (Some x) p e = refl

still_some : (o : Option (Bor Bytes)) → is_some o ≡ true → is_some (option_map (λ t. t.now) o) ≡ true
still_some None e = e
still_some (Some x) e = refl

still_none : (o : Option (Bor Bytes)) → is_some o ≡ false → option_map (λ t. t.now) o ≡ None
still_none None e = refl
still_none (Some x) e = absurd (cc)

-- a name that has a text keeps it
pub index_kept : (entries : List Entry) (version : ℕ) (name key text : Bytes) (x : Index) → key ≡ name → is_some (at_name x.texts key) ≡ true → IsIndexOf entries x → IsIndexOf (entries ++ (name, version, text) ∷ []) x
index_kept entries version name key text x same has is other = sym (named_push other entries (name, version, text) ∙ go (bytes_eq name other) refl) where
  go : (b : Bool) → bytes_eq name other ≡ b → option_or (text_named other entries) (cond b (Some text) None) ≡ option_map (λ t. t.now) (at_name x.texts other)
  go true e =
      let at : key ≡ other = same ∙ (bytes_eq-Decides name other).0 e in
      let known : is_some (text_named other entries) ≡ true = subst (λ o. is_some o ≡ true) (is other) (still_some (at_name x.texts other) (subst (λ k. is_some (at_name x.texts k) ≡ true) at has)) in
      or_some (text_named other entries) (Some text) known ∙ sym (is other)
  go false e = or_none (text_named other entries) ∙ sym (is other)

pub index_put : (entries : List Entry) (version : ℕ) (name key text : Bytes) (t : Bor Bytes) (x y : Index) → key ≡ name → t.now ≡ text → is_some (at_name x.texts key) ≡ false → Changes key x.texts y.texts (Some t) → IsIndexOf entries x
    → IsIndexOf (entries ++ (name, version, text) ∷ []) y
index_put entries version name key text t x y same is_text has change is other =
    ap (option_map (λ t. t.now)) (put name key x.texts y.texts t same change other) ∙ (go (bytes_eq name other) refl ∙ sym (named_push other entries (name, version, text))) where
      go : (b : Bool) → bytes_eq name other ≡ b → option_map (λ t. t.now) (cond b (Some t) (at_name x.texts other)) ≡ option_or (text_named other entries) (cond b (Some text) None)
      go true e =
          let at : key ≡ other = same ∙ (bytes_eq-Decides name other).0 e in
          let none : text_named other entries ≡ None = sym (is other) ∙ still_none (at_name x.texts other) (subst (λ k. is_some (at_name x.texts k) ≡ false) at has) in
          ap Some is_text ∙ sym (ap (λ o. option_or o (Some text)) none)
      go false e = is other ∙ sym (or_none (text_named other entries))
