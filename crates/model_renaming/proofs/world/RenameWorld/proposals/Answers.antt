use Rattle.std.proofs.Common.{ap, ◌∙◌, []}
use Rattle.model_renaming.proofs.Common.{shown_by}
use Rattle.model_renaming.proofs.cited.NamedPlaces.{last_moment}
use Rattle.model_renaming.proofs.world.RenameWorld.proposals.Goals as goal

pub returns-clause-value : goal.returns-clause-value
returns-clause-value g c = c.proposals_among.ensures ∙ ap (shown_by []) (c.deref.ensures.value ∙ ap (λ w. w.rounds) c.self.view_is)

pub returns-clause-law : goal.returns-clause-law
returns-clause-law g c = rw (returns-clause-value g c) (last_moment _ g.met.W.Places.laws g.W.RenamePlaces.world g.met.W.RenamePlaces.may_grow g.met.W.RenamePlaces.at_once c.args.self.now)
