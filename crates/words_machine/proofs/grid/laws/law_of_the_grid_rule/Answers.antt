use Rattle.words_machine.proofs.grid_lemmas.Ruling.{distinct_places, low_places, doors_split}
use Rattle.words_machine.proofs.grid.laws.law_of_the_grid_rule.Goals as goal

pub returns-clause-distinct : goal.returns-clause-distinct
returns-clause-distinct c = distinct_places

pub returns-clause-low : goal.returns-clause-low
returns-clause-low c = low_places

pub returns-clause-doors : goal.returns-clause-doors
returns-clause-doors c = doors_split
