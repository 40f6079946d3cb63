use Rattle.std.proofs.Common.{◌≡◌, ◌+◌, ◌-◌, [], false}
use Rattle.words_pool.specs.PoolView.{call_of, IsAside}
use Rattle.words_pool.proofs.near.look_aside.Given as goal

abbrev pub invariant-loop-place : goal.invariant-loop-place
invariant-loop-place l = record {
  ours : (l.seat.table_id ≡ l.table.table_id) × (l.seat.me.1 ≡ []);
  here : IsAside l._first (l.place - l._first) l.seat.me.0;
  unseen : (call_of l.seat.me.0).sighted ≡ false;
  few : (call_of l.seat.me.0).accesses + l.from ≡ (call_of l.fn.seat.me.0).accesses + l.place;
  lost : (call_of l.seat.me.0).lost ≡ (call_of l.fn.seat.me.0).lost;
}
