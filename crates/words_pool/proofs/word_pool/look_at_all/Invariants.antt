use Rattle.std.proofs.Common.{◌≡◌, ◌<◌, ◌≤◌, ℕ, [], slice_index, vec_len, vec_capacity}
use Rattle.words_pool.proofs.Common.{call_of, own, holding, IsWordFor, set_places}
use Rattle.words_pool.proofs.word_pool.look_at_all.Given as goal

abbrev pub invariant-loop-place : goal.invariant-loop-place
invariant-loop-place g l = record {
  ours : (l.seat.table_id ≡ l.table.table_id) × (l.seat.me.1 ≡ []);
  upto : (1 ≤ l.place) × (l.place ≤ l.numbers);
  count : vec_len l.words ≡ l.place;
  room : vec_capacity l.words ≡ l.numbers;
  same : (p : ℕ) → own (holding p) l.seat.me.0 ≡ own (holding p) l.fn.seat.me.0;
  words : (p : ℕ) → p < l.place → IsWordFor p l.fn.seat.me.0 (slice_index l.words.items p);
  met : (call_of l.seat.me.0).met ≡ set_places l.words.items l.place;
  accesses : (call_of l.seat.me.0).accesses ≡ l.place;
}
