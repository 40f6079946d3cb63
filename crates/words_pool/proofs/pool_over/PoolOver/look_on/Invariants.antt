use Rattle.std.proofs.Common.{◌≡◌, ◌+◌, [], false}
use Rattle.words_pool.specs.PoolView.{call_of, IsSeeking}
use Rattle.words_pool.proofs.pool_over.PoolOver.look_on.Given as goal

abbrev pub invariant-loop-place : goal.invariant-loop-place
invariant-loop-place g l = record {
  ours : l.seat.table_id ≡ l.self.table;
  id : l.seat.id ≡ l.fn.seat.id;
  past : l.seat.me.0.past ≡ l.fn.seat.me.0.past;
  slots : l.seat.me.1 ≡ [];
  here : IsSeeking l.place l.seat.me.0;
  unseen : (call_of l.seat.me.0).sighted ≡ false;
  few : (call_of l.seat.me.0).accesses + 1 ≡ (call_of l.fn.seat.me.0).accesses + l.place;
  lost : (call_of l.seat.me.0).lost ≡ (call_of l.fn.seat.me.0).lost;
  aside : (call_of l.seat.me.0).met_aside ≡ (call_of l.fn.seat.me.0).met_aside;
}
