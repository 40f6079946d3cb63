use Rattle.model_splitter.proofs.cited.grid.GridTied.{grid_law_of, grid_due, grid_begins}
use Rattle.model_splitter.proofs.grid.world.GridWorld.begin.Goals as goal

pub returns-clause-answer : goal.returns-clause-answer
returns-clause-answer g c = rw c.self.view_is at c.begin.ensures.answer

pub returns-clause-state : goal.returns-clause-state
returns-clause-state g c = rw (c.self.view_is, c.new.ensures, c.corner.ensures) at c.begin.ensures.after

pub returns-clause-after : goal.returns-clause-after
returns-clause-after g c = grid_begins c.args.self.now c.begin.new.self c.args.id c.begin.result (returns-clause-state g c) (returns-clause-answer g c)

pub returns-clause-law : goal.returns-clause-law
returns-clause-law g c = grid_law_of c.begin.new.self

pub returns-clause-due : goal.returns-clause-due
returns-clause-due g c = grid_due c.begin.new.self
