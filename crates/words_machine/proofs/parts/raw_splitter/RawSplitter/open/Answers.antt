use Rattle.std.proofs.Common.{ℕ}
use Rattle.words_machine.proofs.parts_lemmas.Dealing.{opens}
use Rattle.words_machine.proofs.parts.raw_splitter.RawSplitter.open.Goals as goal

pub of_words-requires : goal.of_words-requires
of_words-requires g c = opens ℕ c.args.seats
