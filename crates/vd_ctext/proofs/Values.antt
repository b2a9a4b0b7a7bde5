-- Initial values, of which there are at most so many.
use Rattle.std.proofs.Common.{ℕ, zero, suc, ◌-◌, ◌≡◌, Bool, true, false, ◌&&◌, List, [], ◌∷◌, ◌++◌, Some, Ok, Err, refl, sym, ◌∙◌, ap, arith}
use Rattle.std.specs.Prelude.{nat_lt, if◌then◌else◌}
use Rattle.std.proofs.lemmas.Bool.{lt-ltb}
use Rattle.vd_clight.specs.declared.program.Init.{Init}
use Rattle.vd_grammar.specs.Outcome.{Outcome, and_then, with_front}
use Rattle.vd_grammar.specs.Loops.{with_front-one}
use Rattle.vd_grammar.specs.Reading.{by_choice}
use Rattle.vd_cgrammar.specs.declared.kind.Kind.TheVariants.{Comma}
use Rattle.vd_cgrammar.specs.declared.kind.Class.TheVariants.{One}
use Rattle.vd_cgrammar.specs.Kinds.{has}
use Rattle.vd_cgrammar.specs.Lexeme.{Lexeme, kind_of}
use Rattle.vd_cgrammar.specs.Grammar.{MoreValues, InitValue, Rule, grammar}
use Rattle.vd_cgrammar.specs.Read.{expect, read, read_rule}
use Rattle.vd_ctext.specs.Tails.{goes_on}
use Rattle.vd_cgrammar.specs.Laws.{read_is}

-- the equation by which the code reads more values
pub read_more : (n : ℕ) (ts : List Lexeme)
    → read (MoreValues n) ts ≡ (if goes_on n (kind_of ts) then read_rule (Rule.next_value {most = n - 1}) ts else read_rule (Rule.last_value {most = n}) ts)
read_more zero ts = read_is (MoreValues zero) ts
read_more (suc n) ts = read_is (MoreValues (suc n)) ts ∙ by_test (has (One Comma) (kind_of ts))
  where
    first : ℕ → Outcome Lexeme (List Init)
    first m = read_rule (Rule.next_value {most = m}) ts

    by_test : (b : Bool) → by_choice grammar read (if b then Some (Rule.next_value {most = n}) else Some (Rule.last_value {most = suc n})) ts
        ≡ (if nat_lt 0 (suc n) && b then read_rule (Rule.next_value {most = suc n - 1}) ts else read_rule (Rule.last_value {most = suc n}) ts)
    by_test true = let e : n ≡ suc n - 1 = omega arith in rw (lt-ltb 0 (suc n) (omega arith)) (ap first e)
    by_test false = rw (lt-ltb 0 (suc n) (omega arith)) refl

next_reads : (m : ℕ) (ts us ws : List Lexeme) (t : Lexeme) (v : Init) → expect (One Comma) ts ≡ Ok (t, us) → read InitValue us ≡ Ok (v, ws) → (o : Outcome Lexeme (List Init)) → read (MoreValues m) ws ≡ o
    → read_rule (Rule.next_value {most = m}) ts ≡ and_then o (λ xs rest. Ok (v ∷ xs, rest))
next_reads m ts us ws t v e f (Ok p) g = rw (e, f, g) refl
next_reads m ts us ws t v e f (Err rest) g = rw (e, f, g) refl

-- one value more is read behind others
pub more_step : (found new : List Init) (v : Init) (n : ℕ) (ts us ws : List Lexeme) (t : Lexeme) (base : Outcome Lexeme (List Init)) → new ≡ found ++ v ∷ [] → with_front found (read (MoreValues n) ts) ≡ base
    → goes_on n (kind_of ts) ≡ true → expect (One Comma) ts ≡ Ok (t, us) → read InitValue us ≡ Ok (v, ws) → with_front new (read (MoreValues (n - 1)) ws) ≡ base
more_step found new v n ts us ws t base pushed h test e f =
    let next : read (MoreValues n) ts ≡ read_rule (Rule.next_value {most = n - 1}) ts = read_more n ts ∙ rw test refl in
    ap (λ xs. with_front xs (read (MoreValues (n - 1)) ws)) pushed
    ∙ (with_front-one found v (read (MoreValues (n - 1)) ws)
    ∙ (ap (with_front found) (sym (next ∙ next_reads (n - 1) ts us ws t v e f (read (MoreValues (n - 1)) ws) refl)) ∙ h))
