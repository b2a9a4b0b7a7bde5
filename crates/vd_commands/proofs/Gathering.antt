-- Names and bytes of texts, one more at a time.
use Rattle.std.proofs.Common.{◌≡◌, inl, inr, ℕ, ◌+◌, ◌<◌, ◌≤◌, List, [], ◌∷◌, ◌++◌, length, codes, refl, ap, sym, ◌∙◌, subst, arith}
use Rattle.std.specs.declared.cmp.Ordering.{Ordering}
use Rattle.std.specs.declared.cmp.Ordering.TheVariants.{Less, Equal, Greater}
use Rattle.std.specs.Ordering.{match_ordering}
use Rattle.std.specs.BTreeSet.{insert_key}
use Rattle.vd_store.specs.Texts.{name_order}
use Rattle.vd_schedule.specs.Schedule.{HasTooMany}
use Rattle.vd_commands.specs.Command.{Play}
use Rattle.vd_commands.specs.Gathering.{IsGathered}
use Rattle.vd_commands.specs.declared.inputs.Gathered.{Gathered}
use Rattle.vd_commands.specs.Limits.{IsWithin, Joins, JoinAll, HasFewNames, PassesOver, bytes_of, byte_limit, name_limit}
use Rattle.vd_commands.proofs.Submitting.{one_headed}

pub bytes_append : (xs ys : List (List ℕ)) → bytes_of (xs ++ ys) ≡ bytes_of xs + bytes_of ys
bytes_append [] ys = omega arith
bytes_append (x ∷ xs) ys = let rest = bytes_append xs ys in omega (arith, rest)

pub bytes_more : (xs : List (List ℕ)) (x : List ℕ) → bytes_of (xs ++ x ∷ []) ≡ bytes_of xs + length x
bytes_more xs x = let both = bytes_append xs (x ∷ []) in omega (arith, both)

pub join_more : (texts : List (List ℕ)) (text : List ℕ) (a b c : List (List ℕ)) → JoinAll a texts b → Joins b text c → JoinAll a (texts ++ text ∷ []) c
join_more [] text a b c p q = (c, subst (λ ns. Joins ns text c) p q, refl)
join_more (x ∷ texts) text a b c p q = (p.0, p.1, join_more texts text p.0 b c p.2 q)

-- ---- with one more text a limit is passed

pub over_bytes : (texts : List (List ℕ)) (text : List ℕ) (bytes : ℕ) → bytes ≡ bytes_of texts → byte_limit < bytes + length text → PassesOver (texts ++ text ∷ []) (codes "bytes") byte_limit
over_bytes texts text bytes is over = let more = bytes_more texts text in inl (refl, refl, omega (arith, more, is, over))

pub over_names : (texts : List (List ℕ)) (text : List ℕ) (bytes : ℕ) (names after : List (List ℕ)) → bytes ≡ bytes_of texts → bytes + length text ≤ byte_limit → JoinAll [] texts names → Joins names text after
    → name_limit < length after → PassesOver (texts ++ text ∷ []) (codes "names") name_limit
over_names texts text bytes names after is few all one over =
    let more = bytes_more texts text in
    inr (refl, refl, omega (arith, more, is, few), record { names = after; are = join_more texts text [] names after all one; many = over })

-- ---- what was gathered

-- with one more text no limit is passed
pub gathered_more : (g h : Gathered) (text : List ℕ) → IsGathered g → Joins g.names.keys text h.names.keys → h.texts ≡ g.texts ++ text ∷ [] → h.bytes ≡ g.bytes + length text → h.bytes ≤ byte_limit
    → length h.names.keys ≤ name_limit → IsGathered h
gathered_more g h text all one texts bytes few_bytes few_names =
    let more = bytes_more g.texts text in
    let sum : bytes_of h.texts ≡ bytes_of (g.texts ++ text ∷ []) = ap bytes_of texts in
    record {
      names = subst (λ ts. JoinAll [] ts h.names.keys) (sym texts) (join_more g.texts text [] g.names.keys h.names.keys all.names one);
      bytes = omega (arith, more, sum, bytes, all.bytes);
      few_bytes = few_bytes;
      few_names = few_names;
    }

-- what was gathered behind a schedule passes no limit
pub gathered_within : (link schedule turns : List ℕ) (files : List (List ℕ)) (g : Gathered) → IsGathered g → (HasTooMany turns → ⊥) → IsWithin (Play link schedule files) (turns ∷ g.texts)
gathered_within link schedule turns files g all few = (few, subst (λ n. n ≤ byte_limit) all.bytes all.few_bytes, record { names = g.names.keys; are = all.names; few = all.few_names })

-- ---- one result

one_join : (names : List (List ℕ)) (text : List ℕ) (a b : List (List ℕ)) → Joins names text a → Joins names text b → a ≡ b
one_join names text a b (inl p) (inl q) = p.1 ∙ ap (λ n. insert_key name_order names n) (one_headed text p.0 q.0) ∙ sym q.1
one_join names text a b (inl p) (inr q) = absurd (q.0 p.0.kind p.0.name p.0.head)
one_join names text a b (inr p) (inl q) = absurd (p.0 q.0.kind q.0.name q.0.head)
one_join names text a b (inr p) (inr q) = p.1 ∙ sym q.1

-- ---- a front has no more names than all

longer_by : (r : Ordering) (n x : List ℕ) (names more : List (List ℕ)) → length names ≤ length more → length (x ∷ names) ≤ length (match_ordering r (n ∷ (x ∷ names)) (x ∷ names) (x ∷ more))
longer_by Less n x names more le = omega arith
longer_by Equal n x names more le = omega arith
longer_by Greater n x names more le = omega (arith, le)

longer : (names : List (List ℕ)) (n : List ℕ) → length names ≤ length (insert_key name_order names n)
longer [] n = omega arith
longer (x ∷ names) n = longer_by (name_order n x) n x names (insert_key name_order names n) (longer names n)

join_grows : (names : List (List ℕ)) (text : List ℕ) (after : List (List ℕ)) → Joins names text after → length names ≤ length after
join_grows names text after (inl p) = subst (λ ns. length names ≤ length ns) (sym p.1) (longer names p.0.name)
join_grows names text after (inr p) = subst (λ ns. length names ≤ length ns) (sym p.1) (omega arith)

joins_grow : (names : List (List ℕ)) (texts after : List (List ℕ)) → JoinAll names texts after → length names ≤ length after
joins_grow names [] after p = subst (λ ns. length names ≤ length ns) (sym p) (omega arith)
joins_grow names (text ∷ texts) after p = let one = join_grows names text p.0 p.1 in let rest = joins_grow p.0 texts after p.2 in omega (arith, one, rest)

front_grows : (names front rest few many : List (List ℕ)) → JoinAll names (front ++ rest) few → JoinAll names front many → length many ≤ length few
front_grows names [] rest few many p q = subst (λ ns. length ns ≤ length few) (sym q) (joins_grow names rest few p)
front_grows names (text ∷ front) rest few many p q =
    let same : q.0 ≡ p.0 = one_join names text q.0 p.0 q.1 p.1 in
    front_grows p.0 front rest few many p.2 (subst (λ ns. JoinAll ns front many) same q.2)

-- where all texts pass no limit together, no front of them does
pub front_passes : (front rest : List (List ℕ)) (what : List ℕ) (bound : ℕ) → bytes_of (front ++ rest) ≤ byte_limit → HasFewNames (front ++ rest) → PassesOver front what bound → ⊥
front_passes front rest what bound bytes few (inl p) = let sum = bytes_append front rest in omega (arith, sum, bytes, p.2)
front_passes front rest what bound bytes few (inr p) = let le = front_grows [] front rest few.names p.3.names few.are p.3.are in omega (arith, le, few.few, p.3.many)
