use Rattle.model_splitter.proofs.cited.VisitorAccess.{is_access_of, own_access}
use Rattle.model_splitter.proofs.laws.law_of_one_access.Goals as goal

pub returns-clause-own : goal.returns-clause-own
returns-clause-own c = λ v. own_access v.identity v.x v.y v.stage

pub returns-clause-access : goal.returns-clause-access
returns-clause-access c = is_access_of
