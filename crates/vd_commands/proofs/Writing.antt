-- What several writes leave.
use Rattle.std.proofs.Common.{suc, zero, ◌≡◌, ℕ, ◌<◌, ◌≤◌, List, [], ◌∷◌, ◌++◌, length, get_or, take, drop, Option, None, Some, option_map, Ok, Err, Result, refl, ap, sym, ◌∙◌, append_assoc, append-nil, drop-cons, arith, subst}
use Rattle.std.proofs.lemmas.List.{take-append-drop}
use Rattle.vd_base.specs.Sink.{Added, Puts}
use Rattle.vd_outline.specs.Lines.{joined}
use Rattle.vd_base.specs.declared.sink.SinkFault.{SinkFault}
use Rattle.vd_base.specs.declared.sink.SinkFault.TheVariants as sink
use Rattle.vd_commands.specs.Steps.{Writes}

pub nothing_added : (w : Option (List ℕ)) → Added w w []
nothing_added None = refl
nothing_added (Some had) = ap Some (sym (append-nil had))

twice : (w : Option (List ℕ)) (a b : List ℕ) → option_map (λ had. had ++ b) (option_map (λ had. had ++ a) w) ≡ option_map (λ had. had ++ (a ++ b)) w
twice None a b = refl
twice (Some had) a b = ap Some (append_assoc had a b)

pub added_more : (w v u : Option (List ℕ)) (a b : List ℕ) → Added w v a → Added v u b → Added w u (a ++ b)
added_more w v u a b p q = q ∙ ap (option_map (λ had. had ++ b)) p ∙ twice w a b

pub prefix_of : (w v : Option (List ℕ)) (piece text : List ℕ) → piece ≡ text → (k : ℕ) × Added w v (take k piece) → (front rest : List ℕ) × (text ≡ front ++ rest) × Added w v front
prefix_of w v piece text e p = (take p.0 piece, drop p.0 piece, sym e ∙ sym (take-append-drop p.0 piece), p.1)

pub joined-append : (a b : List (List ℕ)) → joined (a ++ b) ≡ joined a ++ joined b
joined-append [] b = refl
joined-append (l ∷ a) b = ap (λ r. l ++ 10 ∷ r) (joined-append a b) ∙ sym (append_assoc l (10 ∷ joined a) (joined b))

-- the lines up to one, that one, and those behind it
pub joined_split : (lines : List (List ℕ)) (k : ℕ) (line : List ℕ) → k < length lines → line ≡ get_or lines k line
    → joined lines ≡ joined (take k lines) ++ ((line ++ 10 ∷ []) ++ joined (drop (suc k) lines))
joined_split lines k line lt is =
    let parts : take k lines ++ drop k lines ≡ lines = take-append-drop k lines in
    let rest : drop k lines ≡ line ∷ drop (suc k) lines = rw (drop-cons lines k line, ← is) refl in
    let flat : joined (line ∷ drop (suc k) lines) ≡ (line ++ 10 ∷ []) ++ joined (drop (suc k) lines) = sym (append_assoc line (10 ∷ []) (joined (drop (suc k) lines))) in
    ap joined (sym parts) ∙ joined-append (take k lines) (drop k lines) ∙ ap (λ r. joined (take k lines) ++ joined r) rest ∙ ap (λ r. joined (take k lines) ++ r) flat

pub joined_more : (lines : List (List ℕ)) (k : ℕ) (line : List ℕ) → k < length lines → line ≡ get_or lines k line
    → joined (take (suc k) lines) ≡ joined (take k lines) ++ (line ++ 10 ∷ [])
joined_more [] k line lt is = absurd (omega arith)
joined_more (l ∷ lines) zero line lt is = ap (λ r. r ++ 10 ∷ []) (sym is)
joined_more (l ∷ lines) (suc k) line lt is = ap (λ r. l ++ 10 ∷ r) (joined_more lines k line (omega arith) is) ∙ sym (append_assoc l (10 ∷ joined (take k lines)) (line ++ 10 ∷ []))

longer : (lines : List (List ℕ)) (k : ℕ) (line : List ℕ) (w v u : Option (List ℕ)) → k < length lines → line ≡ get_or lines k line → Added w v (joined (take k lines))
    → (front rest : List ℕ) × (line ++ 10 ∷ [] ≡ front ++ rest) × Added v u front
    → (front rest : List ℕ) × (joined lines ≡ front ++ rest) × Added w u front
longer lines k line w v u lt is before p = (
  joined (take k lines) ++ p.0,
  p.1 ++ joined (drop (suc k) lines),
  joined_split lines k line lt is ∙ ap (λ r. joined (take k lines) ++ (r ++ joined (drop (suc k) lines))) p.2
      ∙ ap (λ r. joined (take k lines) ++ r) (append_assoc p.0 p.1 (joined (drop (suc k) lines))) ∙ sym (append_assoc (joined (take k lines)) p.0 (p.1 ++ joined (drop (suc k) lines))),
  added_more w v u (joined (take k lines)) p.0 before p.3,
)

-- a line that is not written whole stops the lines
pub lines_stop : (lines : List (List ℕ)) (k : ℕ) (line : List ℕ) (w v u : Option (List ℕ)) (f g h : ℕ) (fault : SinkFault)
    → k < length lines → line ≡ get_or lines k line → Added w v (joined (take k lines)) → f ≤ g
    → Writes (line ++ 10 ∷ []) (record { written = v; written_after = u; faults = g; faults_after = h }) (Err fault)
    → Writes (joined lines) (record { written = w; written_after = u; faults = f; faults_after = h }) (Err fault)
lines_stop lines k line w v u f g h sink.Failed lt is before le p = (longer lines k line w v u lt is before p.0, omega (arith, p.1), omega (arith, p.2))
lines_stop lines k line w v u f g h sink.Memory lt is before le p = (longer lines k line w v u lt is before p.0, omega (arith, p.1))

-- what a put of a piece leaves
pub put_writes : (w v : Option (List ℕ)) (f g : ℕ) (piece text : List ℕ) (result : Result Unit SinkFault) → piece ≡ text → Puts w v f g piece result
    → Writes text (record { written = w; written_after = v; faults = f; faults_after = g }) result
put_writes w v f g piece text (Ok x) e puts = (subst (λ t. Added w v t) e puts.ok, puts.faults_grow)
put_writes w v f g piece text (Err sink.Failed) e puts = (prefix_of w v piece text e (puts.prefix refl), puts.failed refl, puts.faults_grow)
put_writes w v f g piece text (Err sink.Memory) e puts = (([], text, refl, puts.memory refl ∙ nothing_added w), puts.faults_grow)
