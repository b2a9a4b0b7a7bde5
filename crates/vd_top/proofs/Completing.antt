-- A call over files that are told, held and within the limits answers by the definitions.
use Rattle.std.proofs.Common.{◌≡◌, inl, inr, ℕ, ◌≤◌, List, [], ◌∷◌, ◌++◌, length, None, Some, refl, ap, sym, ◌∙◌, append_assoc, arith, subst}
use Rattle.vd_base.specs.Cause.{Rose}
use Rattle.vd_base.specs.Shelf.{Holding, Absent, Holds, Agrees}
use Rattle.vd_commands.specs.Answer.{Answer, HasForm, Answers}
use Rattle.vd_commands.specs.Call.{IsAnswered, AreOutside, IsOutside, HasMalformed, Means, status_of}
use Rattle.vd_commands.specs.Command.{Command, Check, Play, Unbuilt, command_of, files_of}
use Rattle.vd_top.specs.Completeness.{IsComplete}
use Rattle.vd_commands.specs.Limits.{IsWithin, Passes, HasFewNames, bytes_of, byte_limit}
use Rattle.vd_commands.specs.Reading.{AreHeld, AreRead, IsRead, IsReached, IsUnreadable, IsTooLong, PassesLimit, file_bytes, together, file_limit}
use Rattle.vd_commands.specs.Seen.{ShelfSeen, SinkSeen}
use Rattle.vd_commands.specs.Wellformed.{IsMalformed}
use Rattle.vd_commands.specs.declared.ending.Ending.{Ending}
use Rattle.vd_commands.specs.declared.ending.Ending.TheVariants as ending
use Rattle.vd_commands.proofs.Gathering.{front_passes}
use Rattle.vd_commands.proofs.ReadLaws.{held_read, held_at}

-- a command is one alone
same_command : (words : List (List ℕ)) (c d : Command) → command_of words ≡ Some c → command_of words ≡ Some d → c ≡ d
same_command words c d p q = cc

answers_told : (words : List (List ℕ)) (shelf : ShelfSeen) (answer : Answer) (command : Command) (texts : List (List ℕ))
    → IsAnswered words shelf answer → command_of words ≡ Some command → AreHeld shelf.held (files_of command) texts → Answers command texts answer
answers_told words shelf answer command texts answered asked tells =
    let same : answered.command ≡ command = same_command words answered.command command answered.asked asked in
    let read : AreRead shelf.held (files_of command) answered.texts = subst (λ (c : Command). AreRead shelf.held (files_of c) answered.texts) same answered.read in
    let told : texts ≡ answered.texts = held_read shelf.held (files_of command) texts answered.texts tells read in
    subst (λ ts. Answers command ts answer) (sym told) (subst (λ (c : Command). Answers c answered.texts answer) same answered.answers)

-- a file that is reached is held and within the limit
reached_held : (command : Command) (held : List ℕ → Holding) (texts : List (List ℕ)) (file : List ℕ) → IsReached command held file → AreHeld held (files_of command) texts
    → (text : List ℕ) × (held file ≡ Holds text) × (length text ≤ file_limit)
reached_held command held texts file reached tells =
    held_at held reached.before reached.after texts file (subst (λ fs. AreHeld held fs texts) reached.split tells)

never_unreadable : (shelf : ShelfSeen) (command : Command) (texts : List (List ℕ)) (file : List ℕ) → IsReached command shelf.held file → AreHeld shelf.held (files_of command) texts
    → (Rose shelf.faults shelf.faults_after → ⊥) → IsUnreadable shelf file → ⊥
never_unreadable shelf command texts file reached tells kept (inl rose) = kept rose
never_unreadable shelf command texts file reached tells kept (inr absent) =
    let here = reached_held command shelf.held texts file reached tells in
    let holds : Absent ≡ Holds here.0 = sym absent ∙ here.1 in
    cc

never_too_long : (shelf : ShelfSeen) (command : Command) (texts : List (List ℕ)) (file : List ℕ) → IsReached command shelf.held file → AreHeld shelf.held (files_of command) texts → IsTooLong shelf file → ⊥
never_too_long shelf command texts file reached tells long =
    let here = reached_held command shelf.held texts file reached tells in
    omega (arith, long.longer here.0 here.1, here.2)

-- the texts of files that are read are a front of those that the shelf tells
front_told : (held : List ℕ → Holding) (before after told texts : List (List ℕ)) (file text : List ℕ) → AreHeld held (before ++ file ∷ after) told → AreRead held before texts → IsRead held file text
    → (rest : List (List ℕ)) × (told ≡ texts ++ text ∷ rest)
front_told held [] after [] texts file text tells all one = absurd tells
front_told held [] after (t ∷ told) [] file text tells all one =
    let same : text ≡ t = subst (λ h. Agrees h text) tells.0 one.0 in
    (told, ap (λ x. x ∷ told) (sym same))
front_told held [] after (t ∷ told) (x ∷ texts) file text tells all one = absurd all
front_told held (f ∷ before) after [] texts file text tells all one = absurd tells
front_told held (f ∷ before) after (t ∷ told) [] file text tells all one = absurd all
front_told held (f ∷ before) after (t ∷ told) (x ∷ texts) file text tells all one =
    let same : x ≡ t = subst (λ h. Agrees h x) tells.0 all.0 in
    let rest = front_told held before after told texts file text tells.2 all.2 one in
    (rest.0, ap (λ ts. t ∷ ts) rest.1 ∙ ap (λ y. y ∷ (texts ++ text ∷ rest.0)) (sym same))

-- texts that pass no limit together have no front that does
never_passes_by : (command : Command) (texts rest : List (List ℕ)) (text what : List ℕ) (bound : ℕ) → IsWithin command (texts ++ text ∷ rest) → Passes command texts text what bound → ⊥
never_passes_by (Check link files) texts rest text what bound within passes = passes
never_passes_by (Play link schedule files) [] rest text what bound within passes = within.0 passes.2
never_passes_by (Play link schedule files) (turns ∷ texts) rest text what bound within passes =
    let same : (texts ++ text ∷ []) ++ rest ≡ texts ++ text ∷ rest = append_assoc texts (text ∷ []) rest in
    front_passes (texts ++ text ∷ []) rest what bound (subst (λ ts. bytes_of ts ≤ byte_limit) (sym same) within.1) (subst HasFewNames (sym same) within.2) passes
never_passes_by Unbuilt texts rest text what bound within passes = passes

never_passes : (shelf : ShelfSeen) (command : Command) (texts : List (List ℕ)) (what : List ℕ) (bound : ℕ) → AreHeld shelf.held (files_of command) texts → IsWithin command texts
    → PassesLimit command shelf what bound → ⊥
never_passes shelf command texts what bound tells within (file_bytes is reached long) = never_too_long shelf command texts what reached tells long
never_passes shelf command texts what bound tells within (together file text reached one passes) =
    let front = front_told shelf.held reached.before reached.after texts reached.texts file text (subst (λ fs. AreHeld shelf.held fs texts) reached.split tells) reached.read one in
    never_passes_by command reached.texts front.0 text what bound (subst (λ ts. IsWithin command ts) front.1 within) passes

outside_by : (shelf : ShelfSeen) (command : Command) (texts : List (List ℕ)) → AreOutside command shelf → AreHeld shelf.held (files_of command) texts → HasForm command texts → ⊥
outside_by shelf command texts outside tells form =
    let told : texts ≡ outside.texts = held_read shelf.held (files_of command) texts outside.texts tells outside.read in
    outside.outside (subst (λ ts. HasForm command ts) told form)

outside_told : (shelf : ShelfSeen) (command : Command) (texts : List (List ℕ)) → IsOutside command shelf → AreHeld shelf.held (files_of command) texts → HasForm command texts → ⊥
outside_told shelf (Check link files) texts outside tells form = outside_by shelf (Check link files) texts outside tells form
outside_told shelf (Play link schedule files) texts outside tells form = outside_by shelf (Play link schedule files) texts outside tells form
outside_told shelf Unbuilt texts outside tells form = form

malformed_told : (words : List (List ℕ)) (shelf : ShelfSeen) (command : Command) (texts : List (List ℕ)) (file : List ℕ) (line : ℕ) → HasMalformed words shelf file line → command_of words ≡ Some command
    → AreHeld shelf.held (files_of command) texts → IsMalformed command texts file line
malformed_told words shelf command texts file line m asked tells =
    let same : m.command ≡ command = same_command words m.command command m.asked asked in
    let read : AreRead shelf.held (files_of command) m.texts = subst (λ (c : Command). AreRead shelf.held (files_of c) m.texts) same m.read in
    let told : texts ≡ m.texts = held_read shelf.held (files_of command) texts m.texts tells read in
    subst (λ ts. IsMalformed command ts file line) (sym told) (subst (λ (c : Command). IsMalformed c m.texts file line) same m.malformed)

pub complete_by : (e : Ending) (words : List (List ℕ)) (shelf : ShelfSeen) (out : SinkSeen) → Means e words shelf out → IsComplete (status_of e) words shelf out
complete_by ending.Accepted words shelf out m command texts asked tells within formed kept wrote =
    inl (record { answer = m.answer; answers = answers_told words shelf m.answer command texts m.answered asked tells; kind = rw m.kind refl; added = m.added })
complete_by ending.Rejected words shelf out m command texts asked tells within formed kept wrote =
    inl (record { answer = m.answer; answers = answers_told words shelf m.answer command texts m.answered asked tells; kind = rw m.kind refl; added = m.added })
complete_by ending.Usage words shelf out m command texts asked tells within formed kept wrote =
    let neither : None ≡ Some command = sym m.0 ∙ asked in
    absurd (cc)
complete_by (ending.CannotRead file) words shelf out m command texts asked tells within formed kept wrote =
    let same : m.0.command ≡ command = same_command words m.0.command command m.0.asked asked in
    let reached : IsReached command shelf.held file.now = subst (λ (c : Command). IsReached c shelf.held file.now) same m.0.reached in
    absurd (never_unreadable shelf command texts file.now reached tells kept m.0.cause)
complete_by ending.CannotWrite words shelf out m command texts asked tells within formed kept wrote = absurd (wrote m.0)
complete_by (ending.Malformed file line) words shelf out m command texts asked tells within formed kept wrote =
    absurd (formed file.now line (malformed_told words shelf command texts file.now line m.0 asked tells))
complete_by (ending.Limit what bound) words shelf out m command texts asked tells within formed kept wrote =
    let same : m.0.command ≡ command = same_command words m.0.command command m.0.asked asked in
    let passes : PassesLimit command shelf what.now bound = subst (λ (c : Command). PassesLimit c shelf what.now bound) same m.0.passes in
    absurd (never_passes shelf command texts what.now bound tells within passes)
complete_by ending.Memory words shelf out m command texts asked tells within formed kept wrote = inr (inl refl)
complete_by ending.Unbuilt words shelf out m command texts asked tells within formed kept wrote =
    let same : m.0.command ≡ command = same_command words m.0.command command m.0.asked asked in
    let outside : IsOutside command shelf = subst (λ (c : Command). IsOutside c shelf) same m.0.outside in
    inr (inr (refl, outside_told shelf command texts outside tells))

pub complete : (status : ℕ) (e : Ending) (words : List (List ℕ)) (shelf : ShelfSeen) (out : SinkSeen) → status ≡ status_of e → Means e words shelf out → IsComplete status words shelf out
complete status e words shelf out is m = subst (λ n. IsComplete n words shelf out) (sym is) (complete_by e words shelf out m)
