use Rattle.std.proofs.Common.{◌≡◌, ◌≤◌, [], vec_len, vec_capacity}
use Rattle.words_machine.specs.parts.SplitterView.{undealt_from}
use Rattle.words_machine.specs.parts.Seats.{first_seats}
use Rattle.words_machine.proofs.parts.raw_splitter.RawSplitter.new.Given as goal

abbrev pub invariant-loop-number : goal.invariant-loop-number
invariant-loop-number g l = record {
  seats : l.splitter.seats ≡ l.seats;
  few : l.seats ≤ 64;
  ours : l.rest.table_id ≡ l.splitter.table;
  undealt : l.rest.me ≡ (undealt_from l.number l.seats, []);
  dealt : l.dealt.items ≡ first_seats l.splitter l.number;
  count : vec_len l.dealt ≡ l.number;
  room : l.seats ≤ vec_capacity l.dealt;
}
