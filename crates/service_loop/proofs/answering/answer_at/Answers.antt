use borrow.Author.Rules.{scaled_Fits}
use Rattle.std.proofs.lemmas.List.{set-get_or}
use Rattle.std.proofs.Common.{◌≡◌, ◌∙◌, inr, None, sym, inl, refl, subst, set, ap}
use Rattle.service_loop.proofs.Common.{get_or_default, seats_of}
use Rattle.service_loop.specs.declared.connection.ConnectionStage.TheVariants as stage
use Rattle.service_loop.specs.Queries.{query_text}
use Rattle.service_loop.proofs.AnswerLemmas.{seat_answered}
use Rattle.service_loop.proofs.answering.answer_at.Goals as goal

pub returns-in-Idle-clause-answered : goal.returns-in-Idle-clause-answered
returns-in-Idle-clause-answered g c =
    let below = c.if-key-seats.true in
    inr (seat_answered (seats_of g.S.Stream.left g.S.Stream.gone) (query_text c.args.terms (g.K.Persist.holds c.args.persister.now c.args.service.now) c.args.first.now c.args.feed.now) (λ x. x.stage ≡ stage.Idle)
    c.args.key c.args.seats.now c.in-Some.connection c.answer.new.self below (get_or_default c.args.seats.now c.args.key None c.index-seats-key.result below ∙ c.in-Some.is) c.in-Idle.is
    (λ again. (let e : stage.Taken ≡ stage.Idle = sym c.answer.ensures.stage ∙ again in absurd cc)) c.answer.ensures.answers
    (ap (λ s. g.S.Stream.left s) c.answer.ensures.stream) (ap (λ s. g.S.Stream.gone s) c.answer.ensures.stream))

pub returns-in-Idle-clause-room : goal.returns-in-Idle-clause-room
returns-in-Idle-clause-room g c = c.answer.ensures.room

pub returns-else-key-seats : goal.returns-else-key-seats
returns-else-key-seats g c = record { answered = inl refl; room = c.requires }

pub returns-in_default : goal.returns-in_default
returns-in_default g c = record { answered = inl (set-get_or c.args.seats.now c.args.key c.index-seats-key.result); room = c.requires }

pub returns-in_default-stage : goal.returns-in_default-stage
returns-in_default-stage g c =
    record { answered = inl (subst (λ x. set c.args.seats.now c.args.key x ≡ c.args.seats.now) c.in-Some.is (set-get_or c.args.seats.now c.args.key c.index-seats-key.result)); room = c.requires }

pub offset_bounds-seats-key : goal.offset_bounds-seats-key
offset_bounds-seats-key g c = scaled_Fits _ _ _ c.if-key-seats.true c.well_formed.1.1.1.1.1.1.0.1

pub bounds-seats-key : goal.bounds-seats-key
bounds-seats-key g c = c.if-key-seats.true
