-- The first part of a compaction begins with a hall with no event.
use Rattle.std.proofs.Common.{◌≡◌, Some, [], ap, subst, ◌∙◌}
use Rattle.service_follow.proofs.Common.{Config, HallState}
use Rattle.service_hall.specs.Halls.{hall_of}
use Rattle.service_follow.specs.Stays.{Gathers}
use Rattle.service_follow.specs.StayState.{StayState}
use Rattle.service_follow.proofs.stay_machine.StayMachine.begin.Goals as goal

pub returns : goal.returns
returns c =
    let config = c.config.ensures.config ∙ (ap (λ (h : HallState). h.config) c.hall.ensures ∙ ap (λ (s : StayState). s.hall.config) c.self.view_is) in
    let fresh : c.in_ok-part.part.halls ≡ hall_of c.args.self.now.hall.config [] = c.in_ok-part.ensures ∙ ap (λ (k : Config). hall_of k []) config in
    record {
      part = c.take.new.self;
      gathers = subst (λ (h : HallState). Gathers h c.args.entry.now c.take.new.self) fresh c.in_ok-take.ensures.gathers;
      silent = c.in_ok-take.ensures.silent;
      state = ap (λ (s : StayState). let u : StayState = record s { gathered = Some c.take.new.self } in u) c.self.view_is;
    }
