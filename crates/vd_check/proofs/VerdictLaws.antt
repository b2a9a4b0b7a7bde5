-- A script gives one verdict: it is a function of the script.
use Rattle.std.proofs.Common.{◌≡◌, ℕ, ◌+◌, List, [], ◌∷◌, ap, sym, ◌∙◌}
use Rattle.vd_logic.specs.declared.assertion.Assertion.{Assertion}
use Rattle.vd_logic.specs.declared.step.Step.{Step}
use Rattle.vd_store.specs.declared.work.Verdict.{Verdict}
use Rattle.vd_store.specs.declared.work.Verdict.TheVariants.{Accepted, Refused as RefusedAt}
use Rattle.vd_check.specs.Laws.{OneVerdict}
use Rattle.vd_check.specs.Rule.{rule_of}
use Rattle.vd_check.specs.Script.{Node, Applied, Children, Refused, IsGood, ends, goes, Fails, lacks, refused, extra, later, HasVerdictFrom, apply, shown, entry}

abbrev behind : Step → List Step → Verdict
behind s [] = Accepted
behind s (t ∷ ts) = RefusedAt t.number 0 11

abbrev verdict_at : Applied → Step → List Step → (Node → Verdict) → Verdict
verdict_at (Refused c) s ss rest = RefusedAt s.number (rule_of s.node) c
verdict_at (Children []) s ss rest = behind s ss
verdict_at (Children (m ∷ ms)) s ss rest = rest m

abbrev verdict_of : Assertion → ℕ → Node → List Step → Verdict
verdict_of post last n [] = RefusedAt (shown (last + 1)) 0 10
verdict_of post last n (s ∷ ss) = verdict_at (apply post n s.node) s ss (λ m. verdict_of post s.number m ss)

good_is : (post : Assertion) (last : ℕ) (n : Node) (steps : List Step) → IsGood post n steps → Accepted ≡ verdict_of post last n steps
good_is post last n steps (ends {s} e) = sym (ap (λ a. verdict_at a s [] (λ m. verdict_of post s.number m [])) e)
good_is post last n steps (goes {m} {s} {ss} e h) = good_is post s.number m ss h ∙ sym (ap (λ a. verdict_at a s ss (λ m. verdict_of post s.number m ss)) e)

fails_is : (post : Assertion) (last : ℕ) (n : Node) (steps : List Step) (k r c : ℕ) → Fails post last n steps k r c → RefusedAt k r c ≡ verdict_of post last n steps
fails_is post last n steps k r c (lacks e) = ap (λ j. RefusedAt j 0 10) e
fails_is post last n steps k r c (refused {s} {ss} e at by) = ap (λ j. RefusedAt j r c) at ∙ (ap (λ j. RefusedAt s.number j c) by ∙ sym (ap (λ a. verdict_at a s ss (λ m. verdict_of post s.number m ss)) e))
fails_is post last n steps k r c (extra {s} {t} {ss} e at) = ap (λ j. RefusedAt j 0 11) at ∙ sym (ap (λ a. verdict_at a s (t ∷ ss) (λ m. verdict_of post s.number m (t ∷ ss))) e)
fails_is post last n steps k r c (later {m} {s} {ss} e h) = fails_is post s.number m ss k r c h ∙ sym (ap (λ a. verdict_at a s ss (λ m. verdict_of post s.number m ss)) e)

verdict_is : (post : Assertion) (last : ℕ) (n : Node) (steps : List Step) (v : Verdict) → HasVerdictFrom post last n steps v → v ≡ verdict_of post last n steps
verdict_is post last n steps Accepted h = good_is post last n steps h
verdict_is post last n steps (RefusedAt k r c) h = fails_is post last n steps k r c h

pub one_verdict : OneVerdict
one_verdict post f steps v other h g = verdict_is post 0 (entry f) steps v h ∙ sym (verdict_is post 0 (entry f) steps other g)
