use Rattle.std.proofs.Common.{◌≡◌, ◌<◌, ◌≤◌, ◌+◌, [], reverse, slice_index, vec_len, vec_capacity}
use Rattle.words_machine.proofs.parts_lemmas.Common.{BoardClaim, IsClaimed}
use Rattle.words_machine.proofs.parts.board.read_all.Given as goal

abbrev pub invariant-loop-word : goal.invariant-loop-word
invariant-loop-word g l = record {
  ours : (l.seat.table_id ≡ l.table.table_id) × (l.seat.me.1 ≡ []);
  upto : l.word ≤ l.count;
  length_is : vec_len l.words ≡ l.word;
  room : vec_capacity l.words ≡ l.count;
  same : l.seat.me.0.claims ≡ l.fn.seat.me.0.claims;
  said : (c : BoardClaim) → IsClaimed c l.fn.seat.me.0.claims → c.word < l.word → slice_index l.words.items c.word ≡ c.identity;
  read : l.seat.me.0.read ≡ reverse l.words.items;
  accesses : l.seat.me.0.accesses ≡ l.fn.seat.me.0.accesses + l.word;
}
