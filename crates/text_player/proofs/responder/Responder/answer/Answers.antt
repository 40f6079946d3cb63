use Rattle.std.proofs.Common.{◌≡◌, true, refl, ap}
use Rattle.model_asked.specs.Replies.{with_view}
use Rattle.text_player.proofs.Common.{ResponderState, Answered, Reported, Ended, Misread}
use Rattle.model_asked.specs.declared.command.Command.TheVariants as command
use Rattle.text_player.proofs.SaysLemmas.{says_one}
use Rattle.text_player.proofs.responder.Responder.answer.Goals as goal

pub returns-in-Ok-Event-clause-says : goal.returns-in-Ok-Event-clause-says
returns-in-Ok-Event-clause-says g c =
    let event : c.in-Ok-Event.field-0 ≡ command.Event c.in-Ok-Event.event = rw c.in-Ok-Event.is at c.in-Ok-Event.field-0-is in
    rw (c.in-Ok-Event.is, event) (says_one g.D.Service.may g.F.Form.text c.args.service.now c.apply-reply.new.self c.args.self.now c.args.self.now c.hold_answered.new.self c.args.out.now c.hold_answered.new.out (Answered (record { event = c.in-Ok-Event.event; reply = with_view c.apply-reply.result c.apply-reply.new.view })) (c.apply-reply.ensures, refl) c.hold_answered.ensures.held)

pub returns-in-Ok-Owner-clause-says : goal.returns-in-Ok-Owner-clause-says
returns-in-Ok-Owner-clause-says g c =
    let owner : c.in-Ok-Owner.field-0 ≡ command.Owner c.in-Ok-Owner.n = rw c.in-Ok-Owner.is at c.in-Ok-Owner.field-0-is in
    rw (c.in-Ok-Owner.is, owner) (says_one g.D.Service.may g.F.Form.text c.args.service.now c.tell_owner.new.service c.args.self.now c.args.self.now c.tell_owner.new.self c.args.out.now c.tell_owner.new.out (Reported c.in-Ok-Owner.n c.tell_owner.ensures.reported.0) (c.tell_owner.ensures.reported.1, refl) c.tell_owner.ensures.reported.2)

pub returns-in-Ok-Quit-clause-says : goal.returns-in-Ok-Quit-clause-says
returns-in-Ok-Quit-clause-says g c =
    let quit : c.in-Ok-Quit.field-0 ≡ command.Quit = rw c.in-Ok-Quit.is at c.in-Ok-Quit.field-0-is in
    rw (c.in-Ok-Quit.is, quit) (says_one g.D.Service.may g.F.Form.text c.args.service.now c.args.service.now c.args.self.now _ c.hold_ended.new.self c.args.out.now c.hold_ended.new.out Ended
    (refl, ap (λ (q : ResponderState). let r : ResponderState = record q { over = true } in r) c.self.view_is) c.hold_ended.ensures.held)

pub returns-in-Err-clause-says : goal.returns-in-Err-clause-says
returns-in-Err-clause-says g c =
    rw c.in-Err.is (says_one g.D.Service.may g.F.Form.text c.args.service.now c.args.service.now c.args.self.now c.args.self.now c.hold_misread.new.self c.args.out.now c.hold_misread.new.out (Misread c.in-Err.bad) (refl, refl) c.hold_misread.ensures.held)
