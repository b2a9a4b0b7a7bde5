-- Closed examples compute.
use Rattle.std.proofs.Common.{refl}
use Rattle.vd_meaning.specs.Edges.{WordsWrap, PointersMove, ListsEnd, JoinsCompute}

pub words_wrap : WordsWrap
words_wrap = record {
  below = refl;
  far_below = refl;
  past = refl;
  far_past = refl;
  least_signed = refl;
  most_signed = refl;
  signed_past = refl;
  unsigned_below = refl;
  signed_of_pointer = refl;
  unsigned_of_undef = refl;
}

pub pointers_move : PointersMove
pointers_move = record {
  forward = refl;
  below_zero = refl;
  back = refl;
  integers_stay = refl;
  undef_stays = refl;
}

pub lists_end : ListsEnd
lists_end = record {
  last = refl;
  past = refl;
  before = refl;
  changed = refl;
  left_past = refl;
  left_before = refl;
  inner = refl;
  brought_in = refl;
  crossed = refl;
  crossed_below = refl;
  repeated = refl;
  not_repeated = refl;
  summed_signed = refl;
}

pub joins_compute : JoinsCompute
joins_compute = record {
  whole = refl;
  too_much = refl;
  other_value = refl;
  undef_is_a_value = refl;
  data_and_lock = refl;
  other_arguments = refl;
  same_lock = refl;
  hold_twice = refl;
  token_twice = refl;
  token_kept = refl;
  nothing_more = refl;
}
