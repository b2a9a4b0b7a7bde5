-- What a read of several files tells.
use Rattle.std.proofs.Common.{Result, Ok, Err, OnOk, is_err, false, ◌≡◌, inl, inr, ℕ, ◌≤◌, List, [], ◌∷◌, ◌++◌, length, refl, sym, ◌∙◌, arith, subst}
use Rattle.std.proofs.Math.Path.{fun_ext}
use Rattle.vd_base.specs.Shelf.{Holding, Holds, Agrees}
use Rattle.vd_commands.specs.Command.{Command, Play, files_of}
use Rattle.vd_commands.specs.Gathering.{OverStops, TurnsStop}
use Rattle.vd_commands.specs.Limits.{IsWithin}
use Rattle.vd_commands.specs.Reading.{AreHeld, AreRead, IsRead, IsReached, IsUnreadable, IsTooLong, PassesLimit, file_bytes, together, file_limit}
use Rattle.vd_commands.specs.Seen.{ShelfSeen}
use Rattle.vd_commands.specs.Steps.{FileStops, ReadStops}
use Rattle.vd_commands.specs.declared.files.ReadFault.{ReadFault}
use Rattle.vd_commands.specs.declared.files.ReadFault.TheVariants as read

pub read_more : (held : List ℕ → Holding) (files texts : List (List ℕ)) (file text : List ℕ) → AreRead held files texts → Agrees (held file) text → length text ≤ file_limit
    → AreRead held (files ++ file ∷ []) (texts ++ text ∷ [])
read_more held [] [] file text all one short = (one, short, tt)
read_more held [] (t ∷ texts) file text all one short = absurd all
read_more held (f ∷ files) [] file text all one short = absurd all
read_more held (f ∷ files) (t ∷ texts) file text all one short = (all.0, all.1, read_more held files texts file text all.2 one short)

pub read_length : (held : List ℕ → Holding) (files texts : List (List ℕ)) → AreRead held files texts → length files ≡ length texts
read_length held [] [] all = refl
read_length held [] (t ∷ texts) all = absurd all
read_length held (f ∷ files) [] all = absurd all
read_length held (f ∷ files) (t ∷ texts) all = let rest = read_length held files texts all.2 in omega (arith, rest)

-- texts that the shelf tells are those that were read
pub held_read : (held : List ℕ → Holding) (files told texts : List (List ℕ)) → AreHeld held files told → AreRead held files texts → told ≡ texts
held_read held [] [] [] tells all = refl
held_read held [] [] (x ∷ texts) tells all = absurd all
held_read held [] (t ∷ told) texts tells all = absurd tells
held_read held (f ∷ files) [] texts tells all = absurd tells
held_read held (f ∷ files) (t ∷ told) [] tells all = absurd all
held_read held (f ∷ files) (t ∷ told) (x ∷ texts) tells all =
    let agrees : x ≡ t = subst (λ h. Agrees h x) tells.0 all.0 in
    let rest : told ≡ texts = held_read held files told texts tells.2 all.2 in
    cc

-- a file among those that the shelf holds
pub held_at : (held : List ℕ → Holding) (before after told : List (List ℕ)) (file : List ℕ) → AreHeld held (before ++ file ∷ after) told
    → (text : List ℕ) × (held file ≡ Holds text) × (length text ≤ file_limit)
held_at held [] after [] file tells = absurd tells
held_at held [] after (t ∷ told) file tells = (t, tells.0, tells.1)
held_at held (f ∷ before) after [] file tells = absurd tells
held_at held (f ∷ before) after (t ∷ told) file tells = held_at held before after told file tells.2

-- why one file was not read is why those of the command were not
pub file_stops : (command : Command) (held now : List ℕ → Holding) (before after texts : List (List ℕ)) (file : List ℕ) (t u v f g h : ℕ) (fault : ReadFault)
    → files_of command ≡ before ++ file ∷ after → AreRead held before texts → IsWithin command texts → ((name : List ℕ) → now name ≡ held name) → t ≤ u → f ≤ g
    → FileStops file (record { held = now; taken = u; taken_after = v; faults = g; faults_after = h }) fault
    → ReadStops command (record { held = held; taken = t; taken_after = v; faults = f; faults_after = h }) fault
file_stops command held now before after texts file t u v f g h (read.CannotRead named) split all within same tu fg stops =
    let seen : ShelfSeen = record { held = held; taken = t; taken_after = v; faults = f; faults_after = h } in
    let reached : IsReached command held file = record { before = before; after = after; split = split; texts = texts; read = all; within = within } in
    let cause : IsUnreadable seen file = elim stops.1 [ inl rose ↦ inl (omega arith) | inr absent ↦ inr (sym (same file) ∙ absent) ] in
    subst (λ n. IsReached command held n × IsUnreadable seen n) (sym stops.0) (reached, cause)
file_stops command held now before after texts file t u v f g h (read.Limit what bound) split all within same tu fg stops =
    let seen : ShelfSeen = record { held = held; taken = t; taken_after = v; faults = f; faults_after = h } in
    let reached : IsReached command held file = record { before = before; after = after; split = split; texts = texts; read = all; within = within } in
    let cause : IsTooLong seen file = record { taken = omega (arith, stops.2.taken); longer = λ bytes e. stops.2.longer bytes (same file ∙ e); present = λ e. stops.2.present (same file ∙ e) } in
    file_bytes stops.1 (subst (λ n. IsReached command held n) (sym stops.0) reached) (subst (λ n. IsTooLong seen n) (sym stops.0) cause)
file_stops command held now before after texts file t u v f g h read.Memory split all within same tu fg stops = tt

-- ---- a read that comes later

long_later : (held : List ℕ → Holding) (file : List ℕ) (t u v f g h : ℕ) → t ≤ u → IsTooLong (record { held = held; taken = u; taken_after = v; faults = g; faults_after = h }) file
    → IsTooLong (record { held = held; taken = t; taken_after = v; faults = f; faults_after = h }) file
long_later held file t u v f g h tu long = record { taken = omega (arith, long.taken, tu); longer = long.longer; present = long.present }

passes_later : (command : Command) (held : List ℕ → Holding) (what : List ℕ) (bound t u v f g h : ℕ) → t ≤ u → PassesLimit command (record { held = held; taken = u; taken_after = v; faults = g; faults_after = h }) what bound
    → PassesLimit command (record { held = held; taken = t; taken_after = v; faults = f; faults_after = h }) what bound
passes_later command held what bound t u v f g h tu (file_bytes is reached long) = file_bytes is reached (long_later held what t u v f g h tu long)
passes_later command held what bound t u v f g h tu (together file text reached one passes) = together file text reached one passes

stops_later : (command : Command) (held : List ℕ → Holding) (t u v f g h : ℕ) (fault : ReadFault) → t ≤ u → f ≤ g → ReadStops command (record { held = held; taken = u; taken_after = v; faults = g; faults_after = h }) fault
    → ReadStops command (record { held = held; taken = t; taken_after = v; faults = f; faults_after = h }) fault
stops_later command held t u v f g h (read.CannotRead named) tu fg stops = (stops.0, elim stops.1 [ inl rose ↦ inl (omega arith) | inr absent ↦ inr absent ])
stops_later command held t u v f g h (read.Limit what bound) tu fg stops = passes_later command held what.now bound t u v f g h tu stops
stops_later command held t u v f g h read.Memory tu fg stops = stops

-- why a later read stopped, told of the counts before an earlier one
pub stops_of_later : (command : Command) (held now : List ℕ → Holding) (t u v f g h : ℕ) (fault : ReadFault) → ((name : List ℕ) → now name ≡ held name) → t ≤ u → f ≤ g
    → ReadStops command (record { held = now; taken = u; taken_after = v; faults = g; faults_after = h }) fault → ReadStops command (record { held = held; taken = t; taken_after = v; faults = f; faults_after = h }) fault
stops_of_later command held now t u v f g h fault same tu fg stops =
    stops_later command held t u v f g h fault tu fg (subst (λ k. ReadStops command (record { held = k; taken = u; taken_after = v; faults = g; faults_after = h }) fault) (fun_ext same) stops)

-- what a later read gave
pub read_of_later : (held now : List ℕ → Holding) (files texts : List (List ℕ)) → ((name : List ℕ) → now name ≡ held name) → AreRead now files texts → AreRead held files texts
read_of_later held now files texts same all = subst (λ k. AreRead k files texts) (fun_ext same) all

-- ---- limits over all texts

-- why the turns of a schedule that was read are too many is why the files of the run are not read
pub turns_stop : (link file bytes : List ℕ) (files : List (List ℕ)) (shelf : ShelfSeen) (fault : ReadFault) → IsRead shelf.held file bytes → TurnsStop bytes file fault
    → ReadStops (Play link file files) shelf fault
turns_stop link file bytes files shelf (read.CannotRead named) all stops = absurd stops
turns_stop link file bytes files shelf (read.Limit what bound) all stops =
    let reached : IsReached (Play link file files) shelf.held file = record { before = []; after = files; split = refl; texts = []; read = tt; within = tt } in
    together file bytes reached all stops
turns_stop link file bytes files shelf read.Memory all stops = tt

-- why a text that was read is not taken to those before it is why the files of the run are not read
pub over_stops : (link schedule turns : List ℕ) (before after texts : List (List ℕ)) (file text : List ℕ) (shelf : ShelfSeen) (fault : ReadFault)
    → AreRead shelf.held before texts → IsRead shelf.held schedule turns → IsWithin (Play link schedule (before ++ file ∷ after)) (turns ∷ texts) → IsRead shelf.held file text
    → OverStops (texts ++ text ∷ []) fault → ReadStops (Play link schedule (before ++ file ∷ after)) shelf fault
over_stops link schedule turns before after texts file text shelf (read.CannotRead named) all first within one stops = absurd stops
over_stops link schedule turns before after texts file text shelf (read.Limit what bound) all first within one stops =
    let reached : IsReached (Play link schedule (before ++ file ∷ after)) shelf.held file = record { before = schedule ∷ before; after = after; split = refl; texts = turns ∷ texts; read = (first.0, first.1, all); within = within } in
    together file text reached one stops
over_stops link schedule turns before after texts file text shelf read.Memory all first within one stops = tt

pub on_ok : {T E : Type 0} (r : Result T E) (P : Type 0) → is_err r ≡ false → OnOk r P → P
on_ok (Ok x) P e h = h
on_ok (Err x) P e h = absurd (cc)
