use Rattle.std.proofs.Common.{◌≡◌, ◌≤◌, ◌-◌, ℕ}
use Rattle.words_machine.proofs.Common.{Stands, accesses_in}
use Rattle.words_machine.proofs.words.Words.run_loads.Given as goal

abbrev pub invariant-loop-register : goal.invariant-loop-register
invariant-loop-register g l = record {
  ours : l.seat.table_id ≡ l.self.table;
  stands : Stands g.P.WordProgram.steps g.P.WordProgram.law {S = ℕ} l.self.most l.number l.identity l.program l.seat.me;
  counted : l.accesses ≡ accesses_in l.seat.me;
  few : l.accesses ≤ g.P.WordProgram.law.bound l.self.most;
  more : l.made ≤ l.accesses;
}

abbrev pub decreases-loop-register : goal.decreases-loop-register
decreases-loop-register g l = g.P.WordProgram.law.bound l.self.most - accesses_in l.seat.me
