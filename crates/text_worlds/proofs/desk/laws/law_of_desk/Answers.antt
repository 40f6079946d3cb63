use Rattle.text_worlds.specs.lemmas.desk.DeskLaws as desk
use Rattle.text_worlds.proofs.desk.laws.law_of_desk.Goals as goal

pub returns-clause-fresh : goal.returns-clause-fresh
returns-clause-fresh c = desk.fresh

pub returns-clause-fresh_is : goal.returns-clause-fresh_is
returns-clause-fresh_is c = desk.fresh_is

pub returns-clause-one_fresh : goal.returns-clause-one_fresh
returns-clause-one_fresh c = desk.one_fresh

pub returns-clause-goes_on : goal.returns-clause-goes_on
returns-clause-goes_on c = desk.goes_on

pub returns-clause-law : goal.returns-clause-law
returns-clause-law c = desk.law

pub returns-clause-owner : goal.returns-clause-owner
returns-clause-owner c = desk.owner

pub returns-clause-refusal : goal.returns-clause-refusal
returns-clause-refusal c = desk.refusal

pub returns-clause-determined : goal.returns-clause-determined
returns-clause-determined c = desk.determined
