-- Reading lines of entries, and that a schedule is read in one way.
use Rattle.std.proofs.Common.{◌≡◌, ℕ, ◌+◌, ◌≤◌, List, [], ◌∷◌, ◌++◌, length, Result, Ok, Err, refl, ap, sym, ◌∙◌, subst, append_assoc, append-nil}
use Rattle.std.specs.Prelude.{All}
use Rattle.std.proofs.lemmas.List.Elements.{All-push, All-head, All-tail}
use Rattle.std.proofs.lemmas.Grind.{flat_map-append}
use Rattle.std.proofs.lemmas.Bool.{le-leb, lt-leb}
use Rattle.vd_machine.specs.declared.answer.Turn.{Turn}
use Rattle.vd_outline.proofs.Cuts.{cut_unique}
use Rattle.vd_schedule.specs.declared.entry.Entry.{Entry}
use Rattle.vd_schedule.specs.declared.schedule.ScheduleFault.{ScheduleFault}
use Rattle.vd_schedule.specs.declared.schedule.ScheduleFault.TheVariants.{TooMany, Bad}
use Rattle.vd_schedule.specs.Entries.{line_of, text_of, IsEntry, BeginsWithEntry, AreBefore}
use Rattle.vd_schedule.specs.Schedule.{turns_of, turn_limit, IsSchedule, HasTooMany, IsMalformedAt, IsOrMemory}
use Rattle.vd_schedule.specs.Answer.{answer_of, answer_at, answer_within}
use Rattle.vd_schedule.proofs.Lines.{lacks-line_of, entry_unique}

-- ---- reading

-- the bytes are lines of these entries and the rest
pub record HasRead (bytes : List ℕ) (entries : List Entry) (rest : List ℕ) : Type 0 where
  pub cut : bytes ≡ text_of entries ++ rest
  pub each : All IsEntry entries

pub read_more : (bytes : List ℕ) (entries : List Entry) (e : Entry) (rest after : List ℕ) → HasRead bytes entries rest → IsEntry e → rest ≡ line_of e ++ 10 ∷ after → HasRead bytes (entries ++ e ∷ []) after
read_more bytes entries e rest after read is cut = record {
  cut = read.cut ∙ ap (λ x. text_of entries ++ x) (cut ∙ sym (append_assoc (line_of e) (10 ∷ []) after) ∙ ap (λ x. x ++ after) (sym (append-nil (line_of e ++ 10 ∷ []))))
      ∙ sym (append_assoc (text_of entries) (text_of (e ∷ [])) after) ∙ ap (λ x. x ++ after) (sym (flat_map-append (λ x. line_of x ++ 10 ∷ []) entries (e ∷ [])));
  each = All-push IsEntry entries e read.each is;
}

pub read_all : (bytes : List ℕ) (entries : List Entry) (rest : List ℕ) → HasRead bytes entries rest → (BeginsWithEntry rest → ⊥) → AreBefore bytes entries rest
read_all bytes entries rest read stops = record { cut = read.cut; each = read.each; stops = stops }

-- ---- one reading

line_cut : (e : Entry) (es : List Entry) (rest : List ℕ) → text_of (e ∷ es) ++ rest ≡ line_of e ++ 10 ∷ (text_of es ++ rest)
line_cut e es rest = append_assoc (line_of e ++ 10 ∷ []) (text_of es) rest ∙ append_assoc (line_of e) (10 ∷ []) (text_of es ++ rest)

begins : (e : Entry) (es : List Entry) (rest bytes : List ℕ) → IsEntry e → bytes ≡ text_of (e ∷ es) ++ rest → BeginsWithEntry bytes
begins e es rest bytes is cut = record { entry = e; rest = text_of es ++ rest; is = is; cut = cut ∙ line_cut e es rest }

nothing : (line rest : List ℕ) → [] ≡ line ++ 10 ∷ rest → ⊥
nothing [] rest e = cc
nothing (b ∷ line) rest e = cc

no_more : BeginsWithEntry [] → ⊥
no_more begins = nothing (line_of begins.entry) begins.rest begins.cut

-- bytes are cut in one way before their first malformed line
lines_unique : (es fs : List Entry) (rest other : List ℕ) → All IsEntry es → All IsEntry fs → text_of es ++ rest ≡ text_of fs ++ other → (BeginsWithEntry rest → ⊥) → (BeginsWithEntry other → ⊥) → (es ≡ fs) × (rest ≡ other)
lines_unique [] [] rest other each each' cut stops stops' = (refl, cut)
lines_unique [] (f ∷ fs) rest other each each' cut stops stops' = absurd (stops (begins f fs other rest (All-head IsEntry f fs each') cut))
lines_unique (e ∷ es) [] rest other each each' cut stops stops' = absurd (stops' (begins e es rest other (All-head IsEntry e es each) (sym cut)))
lines_unique (e ∷ es) (f ∷ fs) rest other each each' cut stops stops' =
    let is : IsEntry e = All-head IsEntry e es each in
    let is' : IsEntry f = All-head IsEntry f fs each' in
    let both = cut_unique 10 (line_of e) (text_of es ++ rest) (line_of f) (text_of fs ++ other) (lacks-line_of e is) (lacks-line_of f is') (sym (line_cut e es rest) ∙ cut ∙ line_cut f fs other) in
    let first : e ≡ f = entry_unique e f is is' both.0 in
    let more = lines_unique es fs rest other (All-tail IsEntry e es each) (All-tail IsEntry f fs each') both.1 stops stops' in
    ((λ i. first i ∷ more.0 i), more.1)

before_unique : (bytes : List ℕ) (es fs : List Entry) (rest other : List ℕ) → AreBefore bytes es rest → AreBefore bytes fs other → (es ≡ fs) × (rest ≡ other)
before_unique bytes es fs rest other a b = lines_unique es fs rest other a.each b.each (sym a.cut ∙ b.cut) a.stops b.stops

-- ---- what holds of the bytes is answered

within_answer : (es : List Entry) (rest : List ℕ) → length (turns_of es) ≤ turn_limit → answer_of es rest ≡ answer_within es rest
within_answer es rest le = ap (λ test. answer_at test es rest) (le-leb (length (turns_of es)) turn_limit le)

answers_rest : (es : List Entry) (rest : List ℕ) → (rest ≡ [] → ⊥) → answer_within es rest ≡ Err (Bad (length es + 1))
answers_rest es [] some = absurd (some refl)
answers_rest es (b ∷ rest) some = refl

pub answers_schedule : (bytes : List ℕ) (es : List Entry) (rest : List ℕ) (r : Result (List Turn) ScheduleFault) → AreBefore bytes es rest → IsOrMemory r (answer_of es rest)
    → (turns : List Turn) → IsSchedule bytes turns → IsOrMemory r (Ok turns)
answers_schedule bytes es rest r before answer turns s =
    let same = before_unique bytes es s.entries rest [] before (record { cut = s.lines ∙ sym (append-nil (text_of s.entries)); each = s.each; stops = no_more }) in
    let is : answer_of es rest ≡ Ok turns =
    (λ i. answer_of (same.0 i) (same.1 i)) ∙ within_answer s.entries [] (subst (λ t. length t ≤ turn_limit) s.are s.within) ∙ ap Ok (sym s.are) in
    subst (IsOrMemory r) is answer

pub answers_too_many : (bytes : List ℕ) (es : List Entry) (rest : List ℕ) (r : Result (List Turn) ScheduleFault) → AreBefore bytes es rest → IsOrMemory r (answer_of es rest)
    → HasTooMany bytes → IsOrMemory r (Err TooMany)
answers_too_many bytes es rest r before answer s =
    let same = before_unique bytes es s.entries rest s.rest before s.before in
    let is : answer_of es rest ≡ Err TooMany =
    (λ i. answer_of (same.0 i) (same.1 i)) ∙ ap (λ test. answer_at test s.entries s.rest) (lt-leb (length (turns_of s.entries)) turn_limit s.beyond) in
    subst (IsOrMemory r) is answer

pub answers_malformed : (bytes : List ℕ) (es : List Entry) (rest : List ℕ) (r : Result (List Turn) ScheduleFault) → AreBefore bytes es rest → IsOrMemory r (answer_of es rest)
    → (line : ℕ) → IsMalformedAt bytes line → IsOrMemory r (Err (Bad line))
answers_malformed bytes es rest r before answer line s =
    let same = before_unique bytes es s.entries rest s.rest before s.before in
    let is : answer_of es rest ≡ Err (Bad line) =
    (λ i. answer_of (same.0 i) (same.1 i)) ∙ within_answer s.entries s.rest s.within ∙ answers_rest s.entries s.rest s.some ∙ ap (λ n. Err (Bad n)) (sym s.at) in
    subst (IsOrMemory r) is answer
