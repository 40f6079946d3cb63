use Rattle.std.proofs.Common.{◌≡◌, inl, inr}
use Rattle.service_loop.proofs.Common.{seats_of}
use Rattle.service_loop.specs.declared.connection.ConnectionStage.TheVariants as stage
use Rattle.service_loop.specs.Queries.{query_text}
use Rattle.service_loop.proofs.AnswerLemmas.{Answering, answering_none, answering_on}
use Rattle.service_loop.proofs.answering.answer_all.Goals as goal

pub loop-key-init : goal.loop-key-init
loop-key-init g c = record {
  so = answering_none (seats_of g.S.Stream.left g.S.Stream.gone) (query_text c.args.terms (g.K.Persist.holds c.args.persister.now c.args.service.now) c.args.first.now c.args.feed.now) (λ x. x.stage ≡ stage.Idle) c.args.seats.now;
  room = c.requires;
}

pub loop-key-preserved : goal.loop-key-preserved
loop-key-preserved g c =
    let on = seats_of g.S.Stream.left g.S.Stream.gone in
    let answer = query_text c.args.terms (g.K.Persist.holds c.args.persister.now c.args.service.now) c.args.first.now c.args.feed.now in
    record {
      so = elim c.answer_at.ensures.answered as (λ _. Answering on answer (λ x. x.stage ≡ stage.Idle) c.args.seats.now c.answer_at.new.seats) [
        | inl same ↦ rw same c.loop-key.invariant.so
        | inr turn ↦ answering_on on answer (λ x. x.stage ≡ stage.Idle) c.args.seats.now c.loop-key.seats c.answer_at.new.seats _ c.loop-key.invariant.so turn
      ];
      room = c.answer_at.ensures.room;
    }

pub answer_at-requires : goal.answer_at-requires
answer_at-requires g c = c.loop-key.invariant.room

pub returns-clause-answered : goal.returns-clause-answered
returns-clause-answered g c = c.loop-key.invariant.so.answered

pub returns-clause-room : goal.returns-clause-room
returns-clause-room g c = c.loop-key.invariant.room
