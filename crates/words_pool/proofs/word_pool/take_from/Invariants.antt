use Rattle.std.proofs.Common.{◌≡◌, ◌+◌, ◌<◌, ◌≤◌, [], false}
use Rattle.words_pool.specs.PoolView.{call_of, races, IsSeeking}
use Rattle.words_pool.proofs.word_pool.take_from.Given as goal

abbrev pub invariant-loop-place : goal.invariant-loop-place
invariant-loop-place l = record {
  ours : l.seat.table_id ≡ l.table.table_id;
  slots : l.seat.me.1 ≡ [];
  here : IsSeeking l.place l.seat.me.0;
  few : (call_of l.seat.me.0).accesses + l.from ≡ (call_of l.initial.seat.me.0).accesses + l.place;
  races : races (call_of l.seat.me.0) ≡ races (call_of l.initial.seat.me.0);
  aside : (call_of l.seat.me.0).met_aside ≡ (call_of l.initial.seat.me.0).met_aside;
  lost : (call_of l.initial.seat.me.0).lost ≤ (call_of l.seat.me.0).lost;
  unseen : l.from < l.place → (call_of l.seat.me.0).sighted ≡ false;
}
