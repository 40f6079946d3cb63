use Rattle.std.proofs.Common.{ap, ◌∙◌}
use Rattle.model_renaming.proofs.Common.{owner_by}
use Rattle.model_renaming.proofs.cited.NamedPlaces.{owner_is}
use Rattle.model_renaming.proofs.world.RenameWorld.owner_of.Goals as goal

pub returns-clause-value : goal.returns-clause-value
returns-clause-value g c = c.owner_among.ensures ∙ ap (owner_by c.args.number) (c.deref.ensures.value ∙ ap (λ w. w.rounds) c.self.view_is)

pub returns-clause-law : goal.returns-clause-law
returns-clause-law g c = rw (returns-clause-value g c) (owner_is _ g.met.W.Places.laws g.W.RenamePlaces.world g.met.W.RenamePlaces.may_grow g.met.W.RenamePlaces.at_once c.args.self.now c.args.number)
