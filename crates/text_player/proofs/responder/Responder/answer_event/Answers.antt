use Rattle.std.proofs.Common.{refl}
use Rattle.model_asked.specs.Replies.{with_view}
use Rattle.text_player.proofs.Common.{Answered}
use Rattle.text_player.proofs.SaysLemmas.{says_one}
use Rattle.text_player.proofs.responder.Responder.answer_event.Goals as goal

pub returns-clause-says : goal.returns-clause-says
returns-clause-says g c =
    says_one g.D.Service.may g.F.Form.text c.args.service.now c.apply-reply.new.self c.args.self.now c.args.self.now c.hold_asked.new.self c.args.out.now c.hold_asked.new.out (Answered (record { event = c.args.event; reply = with_view c.apply-reply.result c.apply-reply.new.view })) (c.apply-reply.ensures, refl) c.hold_asked.ensures.held
