use Rattle.std.proofs.Common.{◌≡◌, ◌<◌, ◌≤◌, ◌-◌, ◌⊎◌, ℕ, [], length}
use Rattle.words_pool.proofs.Common.{Call, own, holding, word_of, CallId}
use mathlib.Core.Option.{some}
use lib.ListN.{get_elem?}
use Rattle.words_pool.proofs.pool_over.PoolOver.gather_all.Given as goal

abbrev pub invariant-loop-held : goal.invariant-loop-held
invariant-loop-held g l = record {
  ours : (l.seat.table_id ≡ l.self.table) × (l.seat.me.1 ≡ []);
  more : (f : Call → ℕ) → own f l.fn.seat.me.0 ≤ own f l.seat.me.0;
  rest : (i : ℕ) (h : CallId) → get_elem? l.out.items i ≡ some h → h.pool ≡ l.self.table;
  done : (i : ℕ) (h : CallId) → get_elem? l.fn.out.items i ≡ some h → (get_elem? l.out.items i ≡ some h) ⊎ ((1 ≤ own (holding (h.number - 1)) l.seat.me.0) × (word_of (h.number - 1) < l.self.table.words));
}

abbrev pub decreases-loop-held : goal.decreases-loop-held
decreases-loop-held g l = length l.out.items
