use Rattle.std.proofs.Common.{ap, ◌∙◌}
use Rattle.model_renaming.proofs.Common.{name_by, program_of}
use Rattle.model_renaming.proofs.cited.NamedPlaces.{name_is}
use Rattle.model_renaming.proofs.world.RenameWorld.name_of.Goals as goal

pub returns-clause-value : goal.returns-clause-value
returns-clause-value g c = c.name_among.ensures ∙ ap (λ vs. name_by (program_of c.args.id vs)) (c.deref.ensures.value ∙ ap (λ w. w.rounds) c.self.view_is)

pub returns-clause-law : goal.returns-clause-law
returns-clause-law g c = λ first r a o run. returns-clause-value g c ∙ name_is _ g.met.W.Places.laws g.W.RenamePlaces.world g.met.W.RenamePlaces.may_grow g.met.W.RenamePlaces.at_once c.args.self.now c.args.id first r a o run
