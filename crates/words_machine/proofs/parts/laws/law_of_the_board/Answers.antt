use Rattle.words_machine.proofs.parts_lemmas.Claims.{granted_is_so, granted_one, claimed_where}
use Rattle.words_machine.proofs.parts.laws.law_of_the_board.Goals as goal

pub returns-clause-claimed : goal.returns-clause-claimed
returns-clause-claimed c = granted_is_so

pub returns-clause-one : goal.returns-clause-one
returns-clause-one c = granted_one

pub returns-clause-posted : goal.returns-clause-posted
returns-clause-posted c = claimed_where
