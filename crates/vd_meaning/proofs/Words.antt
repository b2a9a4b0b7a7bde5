-- Terms mean words: an integer value has 32 bits.
use Rattle.std.proofs.Common.{ℕ, zero, suc, ◌^◌, ◌<◌, ℤ, pos, negsuc, List, [], ◌∷◌, ◌++◌, map, reverse, take, drop, replicate, slice_set, slice_index_or, arith}
use Rattle.std.proofs.lemmas.Nat.{mod_below}
use mathlib.Core.List.{reverse_aux}
use Rattle.vd_mem.specs.Word.{wrapped}
use Rattle.vd_logic.specs.declared.term.Sort.{Sort}
use Rattle.vd_logic.specs.declared.term.Sort.TheVariants as sort
use Rattle.vd_terms.specs.declared.operation.Unary.{Unary}
use Rattle.vd_terms.specs.declared.operation.Unary.TheVariants as unary
use Rattle.vd_terms.specs.declared.operation.Binary.{Binary}
use Rattle.vd_terms.specs.declared.operation.Binary.TheVariants as binary
use Rattle.vd_terms.specs.declared.operation.Ternary.{Ternary}
use Rattle.vd_terms.specs.declared.operation.Ternary.TheVariants as ternary
use Rattle.vd_terms.specs.Terms.{Term}
use Rattle.vd_terms.specs.Terms as term
use Rattle.vd_terms.specs.Integers.{natural}
use Rattle.vd_meaning.specs.Values.{Val, Undef, Int, Ptr, Arg, OfInt, OfVal, OfList, as_int, as_val, as_list, IsWord, AreWords, HasWords, HaveWords}
use Rattle.vd_meaning.specs.Operations.{one, two, three, off, nth, upd, rep}
use Rattle.vd_meaning.specs.Meaning.{World, Valuation, variable, meaning}
use Rattle.vd_meaning.specs.MeaningLaws.{TermsMeanWords}

pub wrapped-below : (z : ℤ) → wrapped z < 2 ^ 32
wrapped-below (pos n) = mod_below n (2 ^ 32) (omega arith)
wrapped-below (negsuc n) = omega arith

off-word : (v : Val) (z : ℤ) → IsWord v → IsWord (off v z)
off-word Undef z h = tt
off-word (Int n) z h = h
off-word (Ptr b o) z h = tt

index-word : (l : List Val) (i : ℕ) → AreWords l → IsWord (slice_index_or l i Undef)
index-word [] i h = tt
index-word (v ∷ l) zero h = h.0
index-word (v ∷ l) (suc i) h = index-word l i h.1

nth-word : (l : List Val) (z : ℤ) → AreWords l → IsWord (nth l z)
nth-word l (pos i) h = index-word l i h
nth-word l (negsuc i) h = tt

append-words : (l m : List Val) → AreWords l → AreWords m → AreWords (l ++ m)
append-words [] m h g = g
append-words (v ∷ l) m h g = (h.0, append-words l m h.1 g)

reverse_aux-words : (l m : List Val) → AreWords l → AreWords m → AreWords (reverse_aux l m)
reverse_aux-words [] m h g = g
reverse_aux-words (v ∷ l) m h g = reverse_aux-words l (v ∷ m) h.1 (h.0, g)

reverse-words : (l : List Val) → AreWords l → AreWords (reverse l)
reverse-words l h = reverse_aux-words l [] h tt

set-words : (l : List Val) (i : ℕ) (v : Val) → AreWords l → IsWord v → AreWords (slice_set l i v)
set-words [] i v h g = tt
set-words (u ∷ l) zero v h g = (g, h.1)
set-words (u ∷ l) (suc i) v h g = (h.0, set-words l i v h.1 g)

upd-words : (l : List Val) (z : ℤ) (v : Val) → AreWords l → IsWord v → AreWords (upd l z v)
upd-words l (pos i) v h g = set-words l i v h g
upd-words l (negsuc i) v h g = h

take-words : (n : ℕ) (l : List Val) → AreWords l → AreWords (take n l)
take-words zero l h = tt
take-words (suc n) [] h = tt
take-words (suc n) (v ∷ l) h = (h.0, take-words n l h.1)

drop-words : (n : ℕ) (l : List Val) → AreWords l → AreWords (drop n l)
drop-words zero l h = h
drop-words (suc n) [] h = tt
drop-words (suc n) (v ∷ l) h = drop-words n l h.1

replicate-words : (n : ℕ) (v : Val) → IsWord v → AreWords (replicate n v)
replicate-words zero v h = tt
replicate-words (suc n) v h = (h, replicate-words n v h)

rep-words : (v : Val) (z : ℤ) → IsWord v → AreWords (rep v z)
rep-words v (pos n) h = replicate-words n v h
rep-words v (negsuc n) h = tt

val-word : (a : Arg) → HasWords a → IsWord (as_val a)
val-word (OfInt z) h = tt
val-word (OfVal v) h = h
val-word (OfList l) h = tt

list-words : (a : Arg) → HasWords a → AreWords (as_list a)
list-words (OfInt z) h = tt
list-words (OfVal v) h = tt
list-words (OfList l) h = h

one-word : (o : Unary) (a : Arg) → HasWords a → HasWords (one o a)
one-word unary.Len a h = tt
one-word unary.Sum a h = tt
one-word unary.Num a h = tt
one-word unary.Unum a h = tt
one-word unary.Vi a h = wrapped-below (as_int a)
one-word unary.Rev a h = reverse-words (as_list a) (list-words a h)

two-word : (o : Binary) (a b : Arg) → HasWords a → HasWords b → HasWords (two o a b)
two-word binary.Add a b h g = tt
two-word binary.Sub a b h g = tt
two-word binary.Mul a b h g = tt
two-word binary.Quot a b h g = tt
two-word binary.Rem a b h g = tt
two-word binary.Band a b h g = tt
two-word binary.Bor a b h g = tt
two-word binary.Bxor a b h g = tt
two-word binary.Shl a b h g = tt
two-word binary.Shr a b h g = tt
two-word binary.Lt a b h g = tt
two-word binary.Le a b h g = tt
two-word binary.Eq a b h g = tt
two-word binary.Off a b h g = off-word (as_val a) (as_int b) (val-word a h)
two-word binary.Nth a b h g = nth-word (as_list a) (as_int b) (list-words a h)
two-word binary.Cons a b h g = (val-word a h, list-words b g)
two-word binary.App a b h g = append-words (as_list a) (as_list b) (list-words a h) (list-words b g)
two-word binary.Rep a b h g = rep-words (as_val a) (as_int b) (val-word a h)

three-word : (o : Ternary) (a b c : Arg) → HasWords a → HasWords b → HasWords c → HasWords (three o a b c)
three-word ternary.Upd a b c h g k = upd-words (as_list a) (as_int b) (as_val c) (list-words a h) (val-word c k)
three-word ternary.Slice a b c h g k =
    drop-words (natural (as_int b)) (take (natural (as_int c)) (as_list a)) (take-words (natural (as_int c)) (as_list a) (list-words a h))

variable-word : (w : Valuation) (x : ℕ) (s : Sort) → HasWords (variable w x s)
variable-word w x sort.Int = tt
variable-word w x sort.Val = w.vals_ok x
variable-word w x sort.List = w.lists_ok x

pub terms_mean_words : TermsMeanWords
terms_mean_words world w (term.Number n) = tt
terms_mean_words world w (term.Var x s) = variable-word w x s
terms_mean_words world w (term.Named name) = tt
terms_mean_words world w (term.Global name) = tt
terms_mean_words world w term.Undef = tt
terms_mean_words world w term.Nil = tt
terms_mean_words world w (term.Of o a) = one-word o (meaning world w a) (terms_mean_words world w a)
terms_mean_words world w (term.Of2 o a b) = two-word o (meaning world w a) (meaning world w b) (terms_mean_words world w a) (terms_mean_words world w b)
terms_mean_words world w (term.Of3 o a b c) =
    three-word o (meaning world w a) (meaning world w b) (meaning world w c)
    (terms_mean_words world w a) (terms_mean_words world w b) (terms_mean_words world w c)

pub have_words : (world : World) (w : Valuation) (ts : List Term) → HaveWords (map (meaning world w) ts)
have_words world w [] = tt
have_words world w (t ∷ ts) = (terms_mean_words world w t, have_words world w ts)
