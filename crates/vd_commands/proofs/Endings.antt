-- What an ending says.
use Rattle.std.proofs.Common.{◌≡◌, ◌⊎◌, inl, inr, ℕ, true, false, List, [], ◌∷◌, ◌++◌, Some, Result, refl, sym, subst, append-nil, codes}
use Rattle.vd_base.specs.Cause.{Rose}
use Rattle.vd_base.specs.declared.sink.SinkFault.{SinkFault}
use Rattle.vd_outline.specs.Lines.{joined}
use Rattle.vd_store.specs.declared.report.Linkset.{Linkset}
use Rattle.vd_store.specs.declared.report.Outcome.{Outcome}
use Rattle.vd_store.specs.declared.report.Outcome.TheVariants as outcome
use Rattle.vd_store.specs.declared.report.Report.{Report}
use Rattle.vd_commands.specs.Answer.{Answer, answer_of, written_text}
use Rattle.vd_commands.specs.Call.{IsAnswered, Means, TellsLine, TellsEnding, error_line}
use Rattle.vd_commands.specs.Seen.{ShelfSeen, SinkSeen, Adds, AddsPrefix}
use Rattle.vd_commands.specs.Steps.{Writes, Finishes, PutsLine}
use Rattle.vd_commands.specs.declared.ending.Ending.{Ending}
use Rattle.vd_commands.specs.declared.ending.Ending.TheVariants as ending

-- an answer was written, whole or in part
pub finish_means : (words : List (List ℕ)) (shelf : ShelfSeen) (out : SinkSeen) (answer : Answer) (e : Ending)
    → IsAnswered words shelf answer → Finishes answer.success (written_text answer) out e → Means e words shelf out
finish_means words shelf out answer ending.Accepted answered fin = record { answer = answer; answered = answered; kind = fin.0; added = fin.1 }
finish_means words shelf out answer ending.Rejected answered fin = record { answer = answer; answered = answered; kind = fin.0; added = fin.1 }
finish_means words shelf out answer ending.CannotWrite answered fin = (fin.0, record { answer = answer; answered = answered; added = fin.1 })
finish_means words shelf out answer ending.Memory answered fin = inr (record { answer = answer; answered = answered; added = fin })
finish_means words shelf out answer ending.Usage answered fin = absurd fin
finish_means words shelf out answer (ending.CannotRead file) answered fin = absurd fin
finish_means words shelf out answer (ending.Malformed file line) answered fin = absurd fin
finish_means words shelf out answer (ending.Limit what bound) answered fin = absurd fin
finish_means words shelf out answer ending.Unbuilt answered fin = absurd fin

whole : (out : SinkSeen) (text : List ℕ) → Adds out text → AddsPrefix out text
whole out text added = (text, [], sym (append-nil text), added)

-- a call that runs out of memory later says no more than that
pub memory_means : (words : List (List ℕ)) (shelf : ShelfSeen) (out : SinkSeen) (e : Ending) → Means e words shelf out → Means ending.Memory words shelf out
memory_means words shelf out ending.Accepted m = inr (record { answer = m.answer; answered = m.answered; added = whole out (written_text m.answer) m.added })
memory_means words shelf out ending.Rejected m = inr (record { answer = m.answer; answered = m.answered; added = whole out (written_text m.answer) m.added })
memory_means words shelf out ending.Usage m = inl m.2
memory_means words shelf out (ending.CannotRead file) m = inl m.1
memory_means words shelf out ending.CannotWrite m = inr m.1
memory_means words shelf out (ending.Malformed file line) m = inl m.1
memory_means words shelf out (ending.Limit what bound) m = inl m.1
memory_means words shelf out ending.Memory m = m
memory_means words shelf out ending.Unbuilt m = inl m.1

pub told_means : (words : List (List ℕ)) (shelf : ShelfSeen) (out : SinkSeen) (before after : Ending) → Means before words shelf out → (after ≡ before) ⊎ (after ≡ ending.Memory) → Means after words shelf out
told_means words shelf out before after m (inl e) = subst (λ (x : Ending). Means x words shelf out) (sym e) m
told_means words shelf out before after m (inr e) = subst (λ (x : Ending). Means x words shelf out) (sym e) (memory_means words shelf out before m)

-- where a put fails the ending stays
pub failed_puts : (line : List ℕ) (e : Ending) (err : SinkSeen) → AddsPrefix err line → Rose err.faults err.faults_after → PutsLine line e e err
failed_puts line e err front rose = inl (refl, front, λ kept. absurd (kept rose))

-- a put of the line of an ending tells the ending that comes of it
pub puts_tell : (line : List ℕ) (before after : Ending) (err : SinkSeen) → error_line before ≡ Some line → PutsLine line before after err → TellsEnding after err
puts_tell line before after err is (inl p) = subst (λ (x : Ending). TellsEnding x err) (sym p.0) (subst (λ o. TellsLine before o err) (sym is) (p.1, λ other kept. p.2 kept))
puts_tell line before after err is (inr p) = subst (λ (x : Ending). TellsEnding x err) (sym p.0) (([], codes "desk: memory\n", refl, p.1), λ other kept. absurd (other refl))

pub puts_keep : (line : List ℕ) (before after : Ending) (err : SinkSeen) → PutsLine line before after err → (after ≡ before) ⊎ (after ≡ ending.Memory)
puts_keep line before after err (inl p) = inl p.0
puts_keep line before after err (inr p) = inr p.0

pub accepted_finishes : (link : List ℕ) (set : Linkset) (r : Report) (o : Outcome) (lines : List (List ℕ)) (seen : SinkSeen) (result : Result Unit SinkFault) (e : Ending)
    → o ≡ outcome.Accepted set r → lines ≡ r.lines → ((text : List ℕ) (seen : SinkSeen) → Writes text seen result → Finishes true text seen e) → Writes (joined lines) seen result
    → Finishes (answer_of link o).success (written_text (answer_of link o)) seen e
accepted_finishes link set r o lines seen result e is same finish writes =
    subst (λ (x : Outcome). Finishes (answer_of link x).success (written_text (answer_of link x)) seen e) (sym is) (finish (joined r.lines) seen (subst (λ ls. Writes (joined ls) seen result) same writes))

pub rejected_finishes : (link : List ℕ) (r : Report) (o : Outcome) (lines : List (List ℕ)) (seen : SinkSeen) (result : Result Unit SinkFault) (e : Ending)
    → o ≡ outcome.Rejected r → lines ≡ r.lines → ((text : List ℕ) (seen : SinkSeen) → Writes text seen result → Finishes false text seen e) → Writes (joined lines) seen result
    → Finishes (answer_of link o).success (written_text (answer_of link o)) seen e
rejected_finishes link r o lines seen result e is same finish writes =
    subst (λ (x : Outcome). Finishes (answer_of link x).success (written_text (answer_of link x)) seen e) (sym is) (finish (joined r.lines) seen (subst (λ ls. Writes (joined ls) seen result) same writes))

pub none_finishes : (link line : List ℕ) (o : Outcome) (seen : SinkSeen) (result : Result Unit SinkFault) (e : Ending)
    → o ≡ outcome.NoLink → line ≡ codes "no link " ++ link → ((text : List ℕ) (seen : SinkSeen) → Writes text seen result → Finishes false text seen e) → Writes (line ++ 10 ∷ []) seen result
    → Finishes (answer_of link o).success (written_text (answer_of link o)) seen e
none_finishes link line o seen result e is same finish writes =
    subst (λ (x : Outcome). Finishes (answer_of link x).success (written_text (answer_of link x)) seen e) (sym is) (finish (joined ((codes "no link " ++ link) ∷ [])) seen (subst (λ l. Writes (l ++ 10 ∷ []) seen result) same writes))
