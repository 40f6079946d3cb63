use Rattle.text_checker.proofs.judges_lemmas.Views.{here, said_further}
use Rattle.text_checker.proofs.judges.laws.law_of_first_pairs.Goals as goal

pub returns-clause-first : goal.returns-clause-first
returns-clause-first c = here

pub returns-clause-further : goal.returns-clause-further
returns-clause-further c = said_further
