use Rattle.model_splitter.proofs.cited.WalkLemmas.{goes_on, tells_place, ended_is, place_is, one_at_place, few_at_door, fourth_places, one_more}
use Rattle.model_splitter.proofs.laws.law_of_walks.Goals as goal

pub returns-clause-on : goal.returns-clause-on
returns-clause-on g c = goes_on

pub returns-clause-reported : goal.returns-clause-reported
returns-clause-reported g c = tells_place

pub returns-clause-ended : goal.returns-clause-ended
returns-clause-ended g c = ended_is

pub returns-clause-place : goal.returns-clause-place
returns-clause-place g c = place_is

pub returns-clause-one : goal.returns-clause-one
returns-clause-one g c = one_at_place

pub returns-clause-few : goal.returns-clause-few
returns-clause-few g c = few_at_door

pub returns-clause-last : goal.returns-clause-last
returns-clause-last g c = fourth_places

pub returns-clause-more : goal.returns-clause-more
returns-clause-more g c = one_more
