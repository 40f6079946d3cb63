use Rattle.std.proofs.Common.{◌≡◌, ◌+◌, ◌<◌, [], false}
use Rattle.words_pool.specs.PoolView.{call_of, races, IsSeeking}
use Rattle.words_pool.proofs.line_pool.PoolOver+Lining+A.take_from.Given as goal

abbrev pub invariant-loop-place : goal.invariant-loop-place
invariant-loop-place g l = record {
  ours : l.seat.table_id ≡ l.self.table;
  id : l.seat.id ≡ l.initial.seat.id;
  past : l.seat.me.0.past ≡ l.initial.seat.me.0.past;
  slots : l.seat.me.1 ≡ [];
  here : IsSeeking l.place l.seat.me.0;
  few : (call_of l.seat.me.0).accesses + l.from ≡ (call_of l.initial.seat.me.0).accesses + l.place;
  races : races (call_of l.seat.me.0) ≡ races (call_of l.initial.seat.me.0);
  unseen : l.from < l.place → (call_of l.seat.me.0).sighted ≡ false;
}
