use Rattle.std.proofs.Common.{rules, []}
use Rattle.text_player.proofs.responder.Responder.hold_ended.Goals as goal

-- the reply to `quit` shows no view
pub returns-clause-held : goal.returns-clause-held
returns-clause-held g c =
    let accepted = c.count_reply.ensures.accepted [] in
    let refused = c.count_reply.ensures.refused [] in
    search rules
