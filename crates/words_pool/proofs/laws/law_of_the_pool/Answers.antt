use Rattle.words_pool.proofs.Keeping.{one_holder, set_by_holder, holder_of}
use Rattle.words_pool.proofs.laws.law_of_the_pool.Goals as goal

pub returns-clause-one : goal.returns-clause-one
returns-clause-one c = λ count words views place one other kept has others. one_holder count words views kept place one other has others

pub returns-clause-set : goal.returns-clause-set
returns-clause-set c = λ count words views place seat kept lt has. set_by_holder count words views kept place seat lt has

pub returns-clause-holder : goal.returns-clause-holder
returns-clause-holder c = λ count words views place kept lt ne. holder_of count words views kept place lt ne
