use Rattle.model_splitter.proofs.cited.grid.GridTied.{grid_proved, place_always, one_place_reported}
use Rattle.std.specs.Prelude.{is_some, false}
use Rattle.model_steps.proofs.cited.DueLemmas.{not_first_refused}
use Rattle.model_splitter.proofs.cited.VisitorAccess.{own_access}
use Rattle.model_splitter.proofs.grid.laws.law_of_grid_calls.Goals as goal

pub returns-clause-machine : goal.returns-clause-machine
returns-clause-machine c = grid_proved

pub returns-clause-places : goal.returns-clause-places
returns-clause-places c = place_always

pub returns-clause-one_place : goal.returns-clause-one_place
returns-clause-one_place c = one_place_reported

pub returns-clause-not_refused : goal.returns-clause-not_refused
returns-clause-not_refused c = λ most p why rest. not_first_refused is_some most false p why rest

pub returns-clause-own : goal.returns-clause-own
returns-clause-own c = λ u. own_access u.visitor.identity u.visitor.x u.visitor.y u.visitor.stage
