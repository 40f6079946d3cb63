-- What is offered stands behind all that was applied, if it is new.
use Rattle.std.proofs.Common.{◌≡◌, ◌⊎◌, subst}
use Rattle.service_log.specs.Replicas.{HasAppliedFrom}
use Rattle.service_follow.specs.FollowState.{FollowState}
use Rattle.service_follow.specs.Stays.{StayApplies, start_of}
use Rattle.service_follow.proofs.Moves.{placed}
use Rattle.service_follow.proofs.log_hall.LogHall.offer.Goals as goal

pub returns-clause-placed : goal.returns-clause-placed
returns-clause-placed g c = λ place written.
    let stands = g.S.Store.stands in
    let inside = c.self.inside in
    let start = start_of inside.config inside.from in
    let last = stands c.step.new.store in
    subst (λ (a : FollowState g.row.S.Denot). last place written → stands a.store place written ⊎ ((a.stays.place ≡ place) × (written ≡ c.args.batch.now) ×
    HasAppliedFrom StayApplies last inside.from start a.stays)) c.self.view_is
    (placed (stands inside.store) last inside.from start inside.replica c.args.batch.now c.self.invariant c.step.ensures.adds
    (λ is at entry stood. subst (λ (s : g.row.S.Denot). stands s at entry) (c.step.ensures.poisoned is).1 stood) place written)
