-- Closed examples that compute: operations at their edges, and joins.
use Rattle.std.specs.Prelude.{◌≡◌, ℕ, [], ◌∷◌, ◌++◌, List, pos, negsuc, None, Some}
use Rattle.vd_meaning.specs.Values.{Val, Undef, Int, Ptr, OfInt, Invariant, invariant}
use Rattle.vd_meaning.specs.Shares.{Data, Lock, Hold, Token, Kind}
use Rattle.vd_meaning.specs.Resource.{Resource, join}
use Rattle.vd_meaning.specs.Operations.{vi, num, unum, off, nth, upd, sub, rep, sum}

-- an integer stands for its word, below 0 and past 32 bits too
pub record WordsWrap : Type 0 where
  pub below : vi (negsuc 0) ≡ Int 4294967295
  pub far_below : vi (negsuc 4294967296) ≡ Int 4294967295
  pub past : vi (pos 4294967296) ≡ Int 0
  pub far_past : vi (pos 170141183460469231731687303715884105727) ≡ Int 4294967295
  pub least_signed : num (vi (negsuc 2147483647)) ≡ negsuc 2147483647
  pub most_signed : num (vi (pos 2147483647)) ≡ pos 2147483647
  pub signed_past : num (vi (pos 2147483648)) ≡ negsuc 2147483647
  pub unsigned_below : unum (vi (negsuc 0)) ≡ pos 4294967295
  pub signed_of_pointer : num (Ptr 3 (pos 1)) ≡ pos 0
  pub unsigned_of_undef : unum Undef ≡ pos 0

-- pointers move to any offset and back; other values stay
pub record PointersMove : Type 0 where
  pub forward : off (Ptr 3 (pos 1)) (pos 2) ≡ Ptr 3 (pos 3)
  pub below_zero : off (Ptr 3 (pos 1)) (negsuc 1) ≡ Ptr 3 (negsuc 0)
  pub back : off (off (Ptr 3 (pos 1)) (negsuc 1)) (pos 2) ≡ Ptr 3 (pos 1)
  pub integers_stay : off (Int 7) (pos 2) ≡ Int 7
  pub undef_stays : off Undef (pos 2) ≡ Undef

abbrev pub three : List Val
three = Int 1 ∷ Int 2 ∷ Int 4294967295 ∷ []

-- lists at their ends and beyond
pub record ListsEnd : Type 0 where
  pub last : nth three (pos 2) ≡ Int 4294967295
  pub past : nth three (pos 3) ≡ Undef
  pub before : nth three (negsuc 0) ≡ Undef
  pub changed : upd three (pos 2) Undef ≡ Int 1 ∷ Int 2 ∷ Undef ∷ []
  pub left_past : upd three (pos 3) Undef ≡ three
  pub left_before : upd three (negsuc 0) Undef ≡ three
  pub inner : sub three (pos 1) (pos 2) ≡ Int 2 ∷ []
  pub brought_in : sub three (negsuc 4) (pos 9) ≡ three
  pub crossed : sub three (pos 2) (pos 1) ≡ []
  pub crossed_below : sub three (pos 0) (negsuc 0) ≡ []
  pub repeated : rep (Int 7) (pos 2) ≡ Int 7 ∷ Int 7 ∷ []
  pub not_repeated : rep (Int 7) (negsuc 0) ≡ []
  pub summed_signed : sum three ≡ pos 2

-- ---- joins

-- one entry at the first place of block 0
abbrev pub only : Kind → ℕ → Resource
only k s = record { block = 0; offset = 0; kind = k; share = s } ∷ []

abbrev pub seven : Kind
seven = Data (Int 7)

-- a lock's invariant without arguments, named by the byte `I`
abbrev pub plain_invariant : Invariant
plain_invariant = invariant (73 ∷ []) []

abbrev pub of_one_more : Invariant
of_one_more = invariant (73 ∷ []) (OfInt (pos 1) ∷ [])

-- the shares of equal contents are added up to 64; different contents of one cell do not join; a hold and a token stand beside their cell
pub record JoinsCompute : Type 0 where
  pub whole : join (only seven 32) (only seven 32) ≡ Some (only seven 64)
  pub too_much : join (only seven 32) (only seven 33) ≡ None
  pub other_value : join (only seven 32) (only (Data (Int 8)) 32) ≡ None
  pub undef_is_a_value : join (only seven 32) (only (Data Undef) 32) ≡ None
  pub data_and_lock : join (only seven 1) (only (Lock plain_invariant) 1) ≡ None
  pub other_arguments : join (only (Lock plain_invariant) 16) (only (Lock of_one_more) 16) ≡ None
  pub same_lock : join (only (Lock of_one_more) 16) (only (Lock of_one_more) 32) ≡ Some (only (Lock of_one_more) 48)
  pub hold_twice : join (only (Hold plain_invariant) 64) (only (Hold plain_invariant) 64) ≡ None
  pub token_twice : join (only (Token 2) 64) (only (Token 2) 64) ≡ None
  pub token_kept : join (only (Token 2) 64) (only seven 32) ≡ Some (only seven 32 ++ only (Token 2) 64)
  pub nothing_more : join [] (only seven 32) ≡ Some (only seven 32)
