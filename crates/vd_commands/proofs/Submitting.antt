-- What putting texts one after another leaves.
use Rattle.std.proofs.Common.{suc, zero, ◌≡◌, ◌↔◌, ℕ, ◌+◌, List, [], ◌∷◌, take, slice_get, Option, Some, None, MatchOption, is_some, true, refl, ap, sym, ◌∙◌, subst, inl, inr}
use Rattle.std.specs.declared.cmp.Ordering.{Ordering}
use Rattle.std.specs.declared.cmp.Ordering.TheVariants.{Less, Equal, Greater}
use Rattle.std.specs.Ordering.{match_ordering}
use Rattle.std.specs.BTreeMap.{insert_entry}
use Rattle.std.specs.List.{All}
use Rattle.std.proofs.lemmas.List.Elements.{All-nil, All-cons, All-head, All-tail}
use Rattle.vd_linkage.specs.Form.{Entry, IsPlainText, ArePlain}
use Rattle.vd_outline.specs.declared.outline.TextKind.{TextKind}
use Rattle.vd_outline.specs.Outline.{HasHead}
use Rattle.vd_store.specs.Texts.{Bytes, Texts, Put, edited, listed, name_order, no_texts}
use Rattle.vd_commands.specs.Submission.{Entries, IsHeaded, IsHeadless, IsFirstHeadlessAt, PutsText, SubmitsAfter, Submits}
use Rattle.vd_commands.specs.Wellformed.{IsFirstHeadless}
use Rattle.vd_commands.proofs.Heads.{one_name}

-- a head that was found is the text's
pub headed_found : (text : List ℕ) (found : Option (TextKind × List ℕ)) → MatchOption found ((kind : TextKind) (name : List ℕ) → HasHead text kind name → ⊥) (λ head. HasHead text head.0 head.1) → is_some found ≡ true → IsHeaded text
headed_found text None given is = absurd (cc)
headed_found text (Some head) given is = record { kind = head.0; name = head.1; head = given }

-- ---- one result

pub one_headed : (text : List ℕ) (p q : IsHeaded text) → p.name ≡ q.name
one_headed text p q = one_name text p.kind q.kind p.name q.name p.head q.head

one_put : (before a b : Texts) (text : List ℕ) → PutsText before text a → PutsText before text b → a ≡ b
one_put before a b text p q = p.is ∙ ap (λ n. edited before (Put n text)) (one_headed text p.headed q.headed) ∙ sym q.is

one_after : (texts : List (List ℕ)) (t a b : Texts) → SubmitsAfter t texts a → SubmitsAfter t texts b → a ≡ b
one_after [] t a b p q = p ∙ sym q
one_after (text ∷ texts) t a b p q =
    let same : p.0 ≡ q.0 = one_put t p.0 q.0 text p.1 q.1 in
    one_after texts q.0 a b (subst (λ (s : Texts). SubmitsAfter s texts a) same p.2) q.2

-- texts make one snapshot at most
pub one_snapshot : (texts : List (List ℕ)) (current : Texts) (snapshot : Entries) → SubmitsAfter no_texts texts current → snapshot ≡ listed current.held
    → (entries : Entries) → Submits texts entries ↔ (entries ≡ snapshot)
one_snapshot texts current snapshot after is entries = (
  λ other. other.is ∙ ap (λ (s : Texts). listed s.held) (one_after texts no_texts other.current current other.after after) ∙ sym is,
  λ e. record { current = current; after = after; is = e ∙ is },
)

-- ---- the next text

-- putting the first of texts leaves the rest to be put
pub next_text : (before next : Texts) (text : List ℕ) (texts : List (List ℕ)) → PutsText before text next → (current : Texts) → SubmitsAfter before (text ∷ texts) current ↔ SubmitsAfter next texts current
next_text before next text texts put current = (
  λ p. subst (λ (s : Texts). SubmitsAfter s texts current) (one_put before p.0 next text p.1 put) p.2,
  λ p. (next, put, p),
)

-- a text without a head line makes no snapshot
pub headless_stops : (before : Texts) (text : List ℕ) (texts : List (List ℕ)) (current : Texts) → IsHeadless text → SubmitsAfter before (text ∷ texts) current → ⊥
headless_stops before text texts current none p = none p.1.headed.kind p.1.headed.name p.1.headed.head

-- texts with head lines make one
pub some_after : (texts : List (List ℕ)) (t : Texts) → All IsHeaded texts → (u : Texts) × SubmitsAfter t texts u
some_after [] t all = (t, refl)
some_after (text ∷ texts) t all =
    let headed : IsHeaded text = All-head IsHeaded text texts all in
    let next : Texts = edited t (Put headed.name text) in
    let rest : (u : Texts) × SubmitsAfter next texts u = some_after texts next (All-tail IsHeaded text texts all) in
    (rest.0, (next, record { headed = headed; is = refl }, rest.1))

pub some_snapshot : (texts : List (List ℕ)) → All IsHeaded texts → ((entries : Entries) → Submits texts entries → ⊥) → ⊥
some_snapshot texts all none =
    let made : (u : Texts) × SubmitsAfter no_texts texts u = some_after texts no_texts all in
    none (listed made.0.held) (record { current = made.0; after = made.1; is = refl })

-- ---- what holds of each text

IsPlainEntry : Entry → Type 0
IsPlainEntry t = IsPlainText t.2

plain_by : (r : Ordering) (e new : Bytes × (ℕ × Bytes)) (es more : List (Bytes × (ℕ × Bytes))) → IsPlainText new.1.1 → All IsPlainEntry (listed (e ∷ es)) → All IsPlainEntry (listed more)
    → All IsPlainEntry (listed (match_ordering r (new ∷ (e ∷ es)) ((e.0, new.1) ∷ es) (e ∷ more)))
unfolding IsPlainEntry
plain_by Less e new es more p all rest = All-cons IsPlainEntry (new.0, new.1.0, new.1.1) (listed (e ∷ es)) p all
plain_by Equal e new es more p all rest = All-cons IsPlainEntry (e.0, new.1.0, new.1.1) (listed es) p (All-tail IsPlainEntry (e.0, e.1.0, e.1.1) (listed es) all)
plain_by Greater e new es more p all rest = All-cons IsPlainEntry (e.0, e.1.0, e.1.1) (listed more) (All-head IsPlainEntry (e.0, e.1.0, e.1.1) (listed es) all) rest

plain_insert : (es : List (Bytes × (ℕ × Bytes))) (name : Bytes) (v : ℕ × Bytes) → IsPlainText v.1 → All IsPlainEntry (listed es) → All IsPlainEntry (listed (insert_entry name_order es name v))
unfolding IsPlainEntry
plain_insert [] name v p all = All-cons IsPlainEntry (name, v.0, v.1) [] p (All-nil IsPlainEntry)
plain_insert (e ∷ es) name v p all = plain_by (name_order name e.0) e (name, v) es (insert_entry name_order es name v) p all (plain_insert es name v p (All-tail IsPlainEntry (e.0, e.1.0, e.1.1) (listed es) all))

plain_after : (texts : List (List ℕ)) (t u : Texts) → All IsPlainText texts → All IsPlainEntry (listed t.held) → SubmitsAfter t texts u → All IsPlainEntry (listed u.held)
plain_after [] t u plain all p = subst (λ (s : Texts). All IsPlainEntry (listed s.held)) (sym p) all
plain_after (text ∷ texts) t u plain all p =
    let one : All IsPlainEntry (listed (edited t (Put p.1.headed.name text)).held) = plain_insert t.held p.1.headed.name (t.puts + 1, text) (All-head IsPlainText text texts plain) all in
    plain_after texts p.0 u (All-tail IsPlainText text texts plain) (subst (λ (s : Texts). All IsPlainEntry (listed s.held)) (sym p.1.is) one) p.2

-- plain texts make a plain snapshot
pub plain_snapshot : (texts : List (List ℕ)) (snapshot : Entries) → All IsPlainText texts → Submits texts snapshot → ArePlain snapshot
unfolding IsPlainEntry
plain_snapshot texts snapshot plain s =
    let all : All IsPlainEntry (listed s.current.held) = plain_after texts no_texts s.current plain (All-nil IsPlainEntry) s.after in
    subst (λ (x : Entries). All IsPlainEntry x) (sym s.is) all

-- ---- the first file without a head line

pub first_headless : (files texts : List (List ℕ)) (at : ℕ) (file : List ℕ) → IsFirstHeadlessAt texts at → slice_get files at ≡ Some file → IsFirstHeadless files texts file
first_headless [] texts at file first here = let none : None ≡ Some file = here in absurd (cc)
first_headless (f ∷ files) [] at file first here = let none : None ≡ Some first.text = first.here in absurd (cc)
first_headless (f ∷ files) (t ∷ texts) zero file first here =
    let same : f ≡ file = cc in
    let text : t ≡ first.text = let e : Some t ≡ Some first.text = first.here in cc in
    inl (sym same, subst IsHeadless (sym text) first.headless)
first_headless (f ∷ files) (t ∷ texts) (suc at) file first here =
    let rest : IsFirstHeadlessAt texts at = record { before = All-tail IsHeaded t (take at texts) first.before; text = first.text; here = first.here; headless = first.headless } in
    inr (All-head IsHeaded t (take at texts) first.before, first_headless files texts at file rest here)

pub none_headless : (files texts : List (List ℕ)) (file : List ℕ) → All IsHeaded texts → IsFirstHeadless files texts file → ⊥
none_headless [] texts file all first = first
none_headless (f ∷ files) [] file all first = first
none_headless (f ∷ files) (t ∷ texts) file all (inl here) = let headed : IsHeaded t = All-head IsHeaded t texts all in here.1 headed.kind headed.name headed.head
none_headless (f ∷ files) (t ∷ texts) file all (inr later) = none_headless files texts file (All-tail IsHeaded t texts all) later.1
