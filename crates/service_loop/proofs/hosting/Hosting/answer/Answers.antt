-- What is answered is sent, and to whoever is at fault nothing.
use Rattle.std.proofs.Common.{◌∙◌, sym}
use Rattle.service_loop.specs.Sendings.{sockets}
use Rattle.service_loop.proofs.SendingLemmas.{has_sent_answers, has_sent_back}
use Rattle.service_loop.proofs.hosting.Hosting.answer.Goals as goal

pub returns-in-Served-clause-sent : goal.returns-in-Served-clause-sent
returns-in-Served-clause-sent g c =
    let a = c.answer_queries.ensures.answered in
    has_sent_back sockets _ _ _ c.answer_queries.new.seats c.deref_mut.ensures.value (sym c.deref_mut.ensures.len) (a.2.many ∙ a.1.many) (has_sent_answers sockets _ _ _ a)
