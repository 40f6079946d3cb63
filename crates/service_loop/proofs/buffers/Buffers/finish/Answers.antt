use Rattle.std.proofs.Common.{◌∙◌, [], ap, subst, true}
use Rattle.service_loop.specs.BuffersState.{BuffersState}
use Rattle.service_loop.specs.ConnectionBuffers.{Takes}
use Rattle.service_loop.proofs.BuffersLemmas.{takes_end}
use Rattle.service_loop.proofs.buffers.Buffers.finish.Goals as goal

pub returns : goal.returns
returns g c =
    let s : BuffersState = record { responder = c.self.inside.responder; inbox = c.self.inside.inbox.items; outbox = c.self.inside.outbox.items; ended = c.self.inside.ended; broken = c.self.inside.broken; in_line = c.self.inside.in_line } in
    let s' : BuffersState = record s { ended = true } in
    subst (λ (q : BuffersState). Takes [] [] true q s') c.self.view_is (takes_end s (ap (λ (q : BuffersState). q.inbox) c.self.view_is ∙ c.requires))
