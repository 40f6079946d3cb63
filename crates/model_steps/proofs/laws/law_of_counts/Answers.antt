use Rattle.model_steps.proofs.cited.CountLemmas.{count_to-le, count_to-lt, count_to-below, count_to-longer, count_to-mono, count_to-gain, count_none, count_more, count_set}
use Rattle.model_steps.proofs.laws.law_of_counts.Goals as goal

pub returns-clause-all : goal.returns-clause-all
returns-clause-all c = count_to-le

pub returns-clause-fewer : goal.returns-clause-fewer
returns-clause-fewer c = count_to-lt

pub returns-clause-below : goal.returns-clause-below
returns-clause-below c = count_to-below

pub returns-clause-longer : goal.returns-clause-longer
returns-clause-longer c = count_to-longer

pub returns-clause-grown : goal.returns-clause-grown
returns-clause-grown c = count_to-mono

pub returns-clause-gain : goal.returns-clause-gain
returns-clause-gain c = count_to-gain

pub returns-clause-none : goal.returns-clause-none
returns-clause-none c = count_none

pub returns-clause-more : goal.returns-clause-more
returns-clause-more c = count_more

pub returns-clause-set : goal.returns-clause-set
returns-clause-set c = count_set
