use Rattle.model_steps.proofs.cited.Roster.{found, absent, is_some-index, seen-push, seen-put}
use Rattle.model_steps.proofs.laws.law_of_rosters.Goals as goal

pub returns-clause-found : goal.returns-clause-found
returns-clause-found g c = λ identity seen id shown items xs i x a b h e. found identity seen id xs i x a b h e

pub returns-clause-absent : goal.returns-clause-absent
returns-clause-absent g c = λ identity seen id shown items xs a b h. absent identity seen id xs a b h

pub returns-clause-any : goal.returns-clause-any
returns-clause-any g c = is_some-index

pub returns-clause-added : goal.returns-clause-added
returns-clause-added g c = seen-push

pub returns-clause-replaced : goal.returns-clause-replaced
returns-clause-replaced g c = seen-put
