use Rattle.words_machine.proofs.parts_lemmas.Claims.{fresh_board}
use Rattle.words_machine.proofs.parts.board.Board.open.Goals as goal

pub of_words-requires : goal.of_words-requires
of_words-requires g c = fresh_board c.args.names c.requires.1
