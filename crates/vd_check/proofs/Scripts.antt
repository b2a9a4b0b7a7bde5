-- Verdicts from the first step of a script.
use Rattle.std.proofs.Common.{◌≡◌, ℕ, ◌+◌, List, [], ◌∷◌, length, None, Some, slice_get, sym, subst}
use Rattle.vd_logic.specs.declared.assertion.Assertion.{Assertion}
use Rattle.vd_logic.specs.declared.step.Step.{Step}
use Rattle.vd_store.specs.declared.work.Verdict.{Verdict}
use Rattle.vd_store.specs.declared.work.Verdict.TheVariants.{Accepted, Refused as RefusedAt}
use Rattle.vd_check.specs.Rule.{rule_of}
use Rattle.vd_check.specs.Script.{Node, Children, Refused, IsGood, ends, goes, Fails, lacks, refused, extra, later, HasVerdictFrom, apply, shown}

module _ (post : Assertion) (last : ℕ) (n : Node) (s : Step) (ss steps : List Step) (cut : steps ≡ s ∷ ss) where
  at_cut : (v : Verdict) → HasVerdictFrom post last n (s ∷ ss) v → HasVerdictFrom post last n steps v
  at_cut v h = subst (λ (xs : List Step). HasVerdictFrom post last n xs v) (sym cut) h

  -- a step that goes on
  pub verdict_behind : (m : Node) → apply post n s.node ≡ Children (m ∷ []) → (v : Verdict) → HasVerdictFrom post s.number m ss v → HasVerdictFrom post last n steps v
  verdict_behind m e Accepted h = at_cut Accepted (goes e h)
  verdict_behind m e (RefusedAt k r c) h = at_cut (RefusedAt k r c) (later e h)

  -- the last step ends the branch
  pub good_at_end : apply post n s.node ≡ Children [] → None ≡ slice_get ss 0 → HasVerdictFrom post last n steps Accepted
  good_at_end e none = at_cut Accepted (good_before ss e none) where
    good_before : (xs : List Step) → apply post n s.node ≡ Children [] → None ≡ slice_get xs 0 → IsGood post n (s ∷ xs)
    good_before [] e none = ends e
    good_before (x ∷ xs) e none = cc

  -- another step stands behind the branch's end
  pub extra_behind : (t : Step) → apply post n s.node ≡ Children [] → Some t ≡ slice_get ss 0 → HasVerdictFrom post last n steps (RefusedAt t.number 0 11)
  extra_behind t e some = at_cut (RefusedAt t.number 0 11) (extra_before ss e some) where
    extra_before : (xs : List Step) → apply post n s.node ≡ Children [] → Some t ≡ slice_get xs 0 → Fails post last n (s ∷ xs) t.number 0 11
    extra_before [] e some = cc
    extra_before (x ∷ xs) e some = let same : t.number ≡ x.number = cc in extra e same

  pub refused_here : (k r c : ℕ) → apply post n s.node ≡ Refused c → k ≡ s.number → r ≡ rule_of s.node → HasVerdictFrom post last n steps (RefusedAt k r c)
  refused_here k r c e at by = at_cut (RefusedAt k r c) (refused e at by)

-- a script that ends too early
pub lacks_step : (post : Assertion) (last : ℕ) (n : Node) (steps : List Step) (k : ℕ) → length steps ≡ 0 → k ≡ shown (last + 1) → HasVerdictFrom post last n steps (RefusedAt k 0 10)
lacks_step post last n [] k none e = lacks e
lacks_step post last n (s ∷ ss) k none e = cc
