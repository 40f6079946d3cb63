use Rattle.std.proofs.Common.{◌≡◌, ◌<◌, ◌≤◌, ℕ, vec_len, vec_capacity}
use Rattle.words_pool.proofs.Common.{slots_items, word_of}
use lib.ListN.{get_elem?}
use Rattle.words_pool.proofs.line_pool.read_out.Given as goal

abbrev pub invariant-loop-i : goal.invariant-loop-i
invariant-loop-i g l = (vec_len l.words ≡ l.i) × (l.i ≤ l.count) × (vec_capacity l.words ≡ l.count) × ((k : ℕ) → k < l.i → get_elem? l.words.items k ≡ get_elem? (slots_items l.closed.words) (word_of k))
