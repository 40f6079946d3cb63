use Rattle.std.proofs.Common.{refl}
use Rattle.model_splitter.proofs.cited.DoorKept.{kept, law_of, lawful_new}
use Rattle.model_splitter.proofs.laws.law_of_one_door.Goals as goal

pub returns-clause-fresh : goal.returns-clause-fresh
returns-clause-fresh c = lawful_new

pub returns-clause-kept : goal.returns-clause-kept
returns-clause-kept c = λ x y stage p d. kept x y stage p d (stage p) refl

pub returns-clause-law : goal.returns-clause-law
returns-clause-law c = law_of
