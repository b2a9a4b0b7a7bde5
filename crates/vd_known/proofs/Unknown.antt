-- A name is unknown exactly where something that is needed is not seen.
use Rattle.std.proofs.Common.{◌≡◌, ℕ, zero, suc, ◌<◌, Bool, true, false, ◌&&◌, List, [], ◌∷◌, length, get_or, None, Some, refl, sym, ◌∙◌, ap, arith}
use Rattle.std.specs.List.{Contains, list_all}
use Rattle.vd_heads.specs.declared.content.Content.{Content}
use Rattle.vd_heads.specs.declared.view.View.{View}
use Rattle.vd_heads.specs.Views.{IsView}
use Rattle.vd_heads.proofs.Meanings.{knows_seen}
use Rattle.vd_known.specs.Known.{Need, needs, is_met, IsMet, IsUnknown}

missing : (met : Need → Bool) (ns : List Need) → list_all met ns ≡ false → (n : Need) × Contains ns n × (met n ≡ false)
missing met [] e = cc
missing met (n ∷ ns) e = go (met n) refl e (missing met ns) where
  go : (b : Bool) → met n ≡ b → b && list_all met ns ≡ false → (list_all met ns ≡ false → (m : Need) × Contains ns m × (met m ≡ false)) → (m : Need) × Contains (n ∷ ns) m × (met m ≡ false)
  go false f e rest = (n, (0, omega arith, refl), f)
  go true f e rest = let r = rest e in (r.0, (suc r.1.0, (let w = r.1.1 in omega (arith, w)), r.1.2), r.2)

all_met : (met : Need → Bool) (ns : List Need) → list_all met ns ≡ true → (k : ℕ) (n : Need) → k < length ns → get_or ns k n ≡ n → met n ≡ true
all_met met [] e k n below at = absurd (omega (arith, below))
all_met met (m ∷ ns) e k n below at = go (met m) refl e (all_met met ns) k below at where
  go : (b : Bool) → met m ≡ b → b && list_all met ns ≡ true → (list_all met ns ≡ true → (k : ℕ) (n : Need) → k < length ns → get_or ns k n ≡ n → met n ≡ true) → (k : ℕ) → k < length (m ∷ ns) → get_or (m ∷ ns) k n ≡ n → met n ≡ true
  go false f e rest k below at = cc
  go true f e rest zero below at = ap met (sym at) ∙ f
  go true f e rest (suc k) below at = rest e k n (omega (arith, below)) at

met_sound : (view : View) → IsView view → (n : Need) → is_met view n ≡ true → IsMet view.parts.now view.own n
unfolding is_met
met_sound view is None e = cc
met_sound view is (Some n) e = (knows_seen view.parts.now view.own n.0 n.1 view.closure.items is.closure).0 e

met_whole : (view : View) → IsView view → (n : Need) → IsMet view.parts.now view.own n → is_met view n ≡ true
unfolding is_met
met_whole view is None h = absurd h
met_whole view is (Some n) h = (knows_seen view.parts.now view.own n.0 n.1 view.closure.items is.closure).1 h

pub unknown_found : (view : View) (c : Content) → IsView view → list_all (is_met view) (needs c) ≡ false → IsUnknown view.parts.now view.own c
unknown_found view c is e =
    let m = missing (is_met view) (needs c) e in
    (m.0, m.1, λ h. let t : is_met view m.0 ≡ true = met_whole view is m.0 h in let f : is_met view m.0 ≡ false = m.2 in cc)

pub none_unknown : (view : View) (c : Content) → IsView view → list_all (is_met view) (needs c) ≡ true → IsUnknown view.parts.now view.own c → ⊥
none_unknown view c is e u = u.2 (met_sound view is u.0 (all_met (is_met view) (needs c) e u.1.0 u.0 u.1.1 u.1.2))
