use Rattle.std.proofs.Common.{add-one}
use Rattle.model_splitter.proofs.cited.grid.ConsistentKept.{consistent_new, begun, gone_on, elsewhere}
use Rattle.model_splitter.proofs.cited.grid.GridLaw.{grid_law, nearer, unplaced, some_walk, ended_at_place}
use Rattle.model_splitter.proofs.cited.grid.Numbers.{number_low}
use Rattle.model_splitter.proofs.grid.laws.law_of_doors_and_walks.Goals as goal

pub returns-clause-fresh : goal.returns-clause-fresh
returns-clause-fresh c = consistent_new

pub returns-clause-begun : goal.returns-clause-begun
returns-clause-begun c = λ most b m walker p holds some absent room. rw (add-one b) (begun most b m walker holds p some absent room)

pub returns-clause-gone_on : goal.returns-clause-gone_on
returns-clause-gone_on c = λ most b m walker p u holds is. gone_on most b m walker holds p u is

pub returns-clause-elsewhere : goal.returns-clause-elsewhere
returns-clause-elsewhere c = λ most b m other walker holds same words. elsewhere most b m walker holds other same words

pub returns-clause-law : goal.returns-clause-law
returns-clause-law c = grid_law

pub returns-clause-nearer : goal.returns-clause-nearer
returns-clause-nearer c = λ most b m walker p u got holds is on. nearer most b m walker holds p u is on got

pub returns-clause-unplaced : goal.returns-clause-unplaced
returns-clause-unplaced c = λ most b m walker p u holds is on. unplaced most b m walker holds p u is on

pub returns-clause-some : goal.returns-clause-some
returns-clause-some c = λ most b m walker p u holds is. some_walk most b m walker holds p u is

pub returns-clause-ended : goal.returns-clause-ended
returns-clause-ended c = ended_at_place

pub returns-clause-low : goal.returns-clause-low
returns-clause-low c = number_low
