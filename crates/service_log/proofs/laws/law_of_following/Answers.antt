-- What was led stays so, and what was answered is due.
use Rattle.service_log.proofs.Chains.{due_at, still}
use Rattle.service_log.proofs.laws.law_of_following.Goals as goal

pub returns-clause-still : goal.returns-clause-still
returns-clause-still g c = λ from start r s t keeps. still g.M.Machine.applies (g.S.Store.stands s) (g.S.Store.stands t) keeps from start r

pub returns-clause-due : goal.returns-clause-due
returns-clause-due g c = λ from start old new batch replies s t keeps. due_at g.M.Machine.applies (g.S.Store.stands s) (g.S.Store.stands t) keeps from start old new batch replies
