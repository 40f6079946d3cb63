use Rattle.std.proofs.Common.{◌≡◌, ◌≤◌, ◌-◌, ℕ}
use Rattle.words_machine.proofs.Common.{Stands, accesses_in}
use Rattle.words_machine.proofs.words.Words.run.Given as goal

abbrev pub invariant-loop-outcome : goal.invariant-loop-outcome
invariant-loop-outcome g l = record {
  ours : l.seat.table_id ≡ l.self.table;
  stands : Stands g.P.WordProgram.steps g.P.WordProgram.law {S = ℕ} l.self.most l.number l.identity l.program l.seat.me;
  counted : l.accesses ≡ accesses_in l.seat.me;
  few : l.accesses ≤ g.P.WordProgram.law.bound l.self.most;
}

abbrev pub decreases-loop-outcome : goal.decreases-loop-outcome
decreases-loop-outcome g l = g.P.WordProgram.law.bound l.self.most - accesses_in l.seat.me
