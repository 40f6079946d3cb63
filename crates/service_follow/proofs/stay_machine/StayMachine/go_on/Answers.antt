-- One more part of a compaction was read.
use Rattle.std.proofs.Common.{Some, Option, refl, sym, ap, subst, ◌∙◌}
use Rattle.service_follow.specs.Marks.{next_in}
use Rattle.service_follow.specs.Stays.{GoesOnFrom}
use Rattle.service_follow.specs.StayState.{StayState}
use Rattle.service_follow.specs.declared.gathering.Gathering.{Gathering}
use Rattle.service_follow.proofs.stay_machine.StayMachine.go_on.Goals as goal

pub returns : goal.returns
returns c =
    let now = c.args.self.now in
    let entry = c.args.entry.now in
    let queue = c.take.new.reply_queue in
    let part = c.take.new.self in
    let new : StayState = record now { gathered = Some part } in
    let state = ap (λ (s : StayState). let u : StayState = record s { gathered = Some part } in u) (c.self.view_is ∙ c.in-Some.ensures.state) in
    let done : GoesOnFrom (next_in now.gathered entry) now entry queue new =
    subst (λ (o : Option Gathering). GoesOnFrom o now entry queue new) c.in-Some.ensures.part
    (record { part = part; gathers = c.in_ok-take.ensures.gathers; silent = c.in_ok-take.ensures.silent; state = refl }) in
    subst (λ (u : StayState). GoesOnFrom (next_in now.gathered entry) now entry queue u) (sym state) done
