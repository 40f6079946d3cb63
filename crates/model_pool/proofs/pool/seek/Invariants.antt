use Rattle.std.proofs.Common.{◌≤◌, ℕ, max}
use Rattle.model_pool.specs.Invariant.{AreSetBelow, AreSetFrom}
use Rattle.model_pool.proofs.Seeking.{Missed}
use Rattle.model_pool.proofs.pool.seek.Given as goal

abbrev pub invariant-loop-bit : goal.invariant-loop-bit
invariant-loop-bit g l = record {
  missed : Missed l.size l.first l.initial.bits l.bit l.bits;
  set : AreSetFrom l.first l.bit l.bits;
  kept : (low : ℕ) → AreSetBelow low l.initial.bits → AreSetBelow low l.bits;
  low : l.first ≤ l.bit;
  high : l.bit ≤ max l.first l.size;
}
