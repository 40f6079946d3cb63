-- The lines of the entry were played with no growth refused.
use Rattle.std.proofs.Common.{◌∙◌, List, [], ℕ, false, ap, sym, subst}
use Rattle.std.proofs.lemmas.Result.{on_ok_weaker}
use Rattle.service_follow.proofs.Common.{Config, WorldKind, HallState, HallApplies, TakesBytes, NotingState, NotingSays, ReplyQueueState}
use Rattle.text_player.specs.Says.{IsSilent}
use Rattle.service_hall.specs.declared.rules.Rules.{Rules}
use Rattle.service_follow.proofs.Plays.{applied}
use Rattle.service_follow.proofs.machine.HallMachine.play_entry.Goals as goal

pub returns : goal.returns
returns c =
    let h = c.args.self.now in
    let entry = c.args.entry.now in
    let u = c.play.new.service in
    let begun =
    c.begin.ensures ∙ ap (λ (s : HallState). let n : NotingState = record { hall = s; said = []; lost = false; rules = c.rules_of.result } in n) c.self.view_is
    ∙ ap (λ (k : Rules). let n : NotingState = record { hall = h; said = []; lost = false; rules = k } in n) c.rules_of.ensures in
    let world = ap (λ (g : Config). g.world) (c.config-kind.ensures.config ∙ ap (λ (s : HallState). s.config) (c.hall.ensures ∙ c.self.view_is)) in
    let silent = subst (λ (k : WorldKind). IsSilent k c.in-Ok.responder) world c.in-Ok.ensures in
    let takes = subst (λ (l : List ℕ). TakesBytes NotingSays c.begin.new.self c.in-Ok.responder l u c.play.new.responder) c.behind_first_line.ensures c.play.ensures in
    on_ok_weaker c.put_on.result (
    λ reported.
    let all = applied h entry c.in-Ok.responder c.play.new.responder c.begin.new.self u begun silent takes reported.1 in
    subst (λ (s : HallState). HallApplies h entry c.put_on.new.reply_queue s) (sym c.put_on.ensures.hall) (subst (λ (t : ReplyQueueState). HallApplies h entry t u.hall) (sym reported.0) all)) c.put_on.ensures.reported
