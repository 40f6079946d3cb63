use Rattle.std.proofs.Common.{◌≡◌}
use Rattle.service_loop.proofs.Common.{AreShared, seats_of}
use Rattle.service_loop.specs.declared.connection.ConnectionStage.TheVariants as stage
use Rattle.service_loop.specs.Queries.{query_text}
use Rattle.service_loop.proofs.AnswerLemmas.{Answering}
use Rattle.service_loop.proofs.answering.answer_all.Given as goal

abbrev pub invariant-loop-key : goal.invariant-loop-key
invariant-loop-key g l = record {
  so : Answering (seats_of g.S.Stream.left g.S.Stream.gone) (query_text l.terms (g.K.Persist.holds l.persister l.service) l.first l.feed) (λ c. c.stage ≡ stage.Idle) l.fn.seats l.seats;
  room : AreShared l.shared;
}
