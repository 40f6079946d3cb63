use Rattle.std.proofs.Common.{◌≢◌, ◌∙◌, ap, sym, Err}
use Rattle.std.proofs.lemmas.Bool.{false≢true}
use Rattle.model_steps.specs.Calls.{outcome_in, reply_of}
use Rattle.model_steps.specs.declared.refusal.Refusal.TheVariants.{NoMemory}
use Rattle.model_steps.proofs.cited.StepLemmas.{shows_what_is_mapped}
use Rattle.model_splitter.proofs.cited.grid.GridTied.{grid_law_of, grid_due, grid_steps, grid_stays, grid_fits}
use Rattle.model_splitter.proofs.grid.world.GridWorld.step.Goals as goal
use Rattle.model_splitter.proofs.grid.world.GridWorld.step.Goals.{After-map}

sure : (g : _) (c : After-map g) → c.step.result ≢ Err NoMemory
sure g c = λ e. false≢true (sym (grid_fits c.self.inside.world c.args.id) ∙ c.step.ensures.no_memory e)

pub returns-clause-answer : goal.returns-clause-answer
returns-clause-answer g c = shows_what_is_mapped c.step.result c.map.result c.map.ensures.cases ∙ ap (reply_of outcome_in) (rw c.self.view_is at c.step.ensures.answer (sure g c))

pub returns-clause-state : goal.returns-clause-state
returns-clause-state g c = rw c.self.view_is at c.step.ensures.after (sure g c)

pub returns-clause-alike : goal.returns-clause-alike
returns-clause-alike g c = λ other same. shows_what_is_mapped c.step.result c.map.result c.map.ensures.cases ∙ ap (reply_of outcome_in) ((rw c.self.view_is at c.step.ensures.alike (sure g c)) other same)

pub returns-clause-stands_alike : goal.returns-clause-stands_alike
returns-clause-stands_alike g c = grid_stays c.args.self.now c.step.new.self c.args.id (returns-clause-state g c)

pub returns-clause-after : goal.returns-clause-after
returns-clause-after g c = grid_steps c.args.self.now c.step.new.self c.args.id c.map.result (returns-clause-state g c) (returns-clause-answer g c)

pub returns-clause-law : goal.returns-clause-law
returns-clause-law g c = grid_law_of c.step.new.self

pub returns-clause-due : goal.returns-clause-due
returns-clause-due g c = grid_due c.step.new.self
