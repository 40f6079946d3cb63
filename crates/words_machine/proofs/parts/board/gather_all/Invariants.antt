use Rattle.std.proofs.Common.{◌≡◌, ◌+◌, ◌⊎◌, ℕ, [], length}
use mathlib.Core.Option.{some}
use lib.ListN.{get_elem?}
use Rattle.words_machine.specs.parts.Boards.{GrantId, HasClaimOf}
use Rattle.words_machine.proofs.parts.board.gather_all.Given as goal

abbrev pub invariant-loop-grant : goal.invariant-loop-grant
invariant-loop-grant g l = record {
  ours : (l.seat.table_id ≡ l.table.table_id) × (l.seat.me.1 ≡ []);
  same : (l.seat.me.0.accesses + length l.out.items ≡ l.fn.seat.me.0.accesses + length l.fn.out.items) × (l.seat.me.0.read ≡ l.fn.seat.me.0.read);
  rest : (i : ℕ) (h : GrantId) → get_elem? l.out.items i ≡ some h → h.board ≡ l.table.table_id;
  done : (i : ℕ) (h : GrantId) → get_elem? l.fn.out.items i ≡ some h → (get_elem? l.out.items i ≡ some h) ⊎ HasClaimOf l.seat.me.0 h;
}

abbrev pub decreases-loop-grant : goal.decreases-loop-grant
decreases-loop-grant g l = length l.out.items
