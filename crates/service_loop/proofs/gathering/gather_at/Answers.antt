use borrow.Author.Rules.{scaled_Fits}
use Rattle.std.proofs.lemmas.List.{set-get_or, get_or_past}
use Rattle.std.proofs.Common.{◌≡◌, ◌∙◌, inl, inr, None, refl, sym, subst}
use Rattle.service_loop.proofs.Common.{get_or_default, Consumes-nil, seats_of, SeatIdle, requests_seen, Gathered}
use Rattle.service_loop.proofs.GatherLemmas.{gathered_at, gathers_none, gathered_none}
use Rattle.service_loop.proofs.ReportedLemmas.{seat_peeked, set_same}
use Rattle.service_loop.specs.declared.connection.ConnectionStage.TheVariants as stage
use Rattle.service_loop.proofs.gathering.gather_at.Goals as goal

pub returns-in_default-stage-clause-gathered : goal.returns-in_default-stage-clause-gathered
returns-in_default-stage-clause-gathered g c =
    let below = c.if-key-seats.true in
    let was = c.in-Some.connection in
    let left = g.S.Stream.left was.stream in
    gathered_at (seats_of g.S.Stream.left g.S.Stream.gone) c.args.key c.args.seats.now was was below
    (get_or_default c.args.seats.now c.args.key None c.index-seats-key.result below ∙ c.in-Some.is) (gathers_none left left was.buffers (Consumes-nil left)) refl

pub returns-in-Queued-clause-gathered : goal.returns-in-Queued-clause-gathered
returns-in-Queued-clause-gathered g c =
    let below = c.if-key-seats.true in
    gathered_at (seats_of g.S.Stream.left g.S.Stream.gone) c.args.key c.args.seats.now c.in-Some.connection c.gather.new.self below
    (get_or_default c.args.seats.now c.args.key None c.index-seats-key.result below ∙ c.in-Some.is) c.gather.ensures.gathers c.gather.ensures.unsent

pub returns-in_default-stage-clause-peeked : goal.returns-in_default-stage-clause-peeked
returns-in_default-stage-clause-peeked g c =
    let below = c.if-key-seats.true in
    let was = c.in-Some.connection in
    let there = get_or_default c.args.seats.now c.args.key None c.index-seats-key.result below ∙ c.in-Some.is in
    inl (refl, set_same c.args.seats.now c.args.key was below there, subst (λ x. SeatIdle (λ q. q.stage ≡ stage.Queued) x) (sym there) c.in_default-stage.not-Queued)

pub returns-in-Queued-clause-peeked : goal.returns-in-Queued-clause-peeked
returns-in-Queued-clause-peeked g c =
    let below = c.if-key-seats.true in
    let was = c.in-Some.connection in
    let is = c.gather.new.self in
    let there = get_or_default c.args.seats.now c.args.key None c.index-seats-key.result below ∙ c.in-Some.is in
    inr (
      requests_seen c.args.batch.now.kind is.buffers is.peek,
      c.gather.ensures.reported,
      seat_peeked (seats_of g.S.Stream.left g.S.Stream.gone) (λ q. q.peek) (λ q. q.stage ≡ stage.Queued) c.args.batch.now.kind c.args.key c.args.seats.now was is (requests_seen c.args.batch.now.kind is.buffers is.peek) below there
          (c.gather.ensures.stage ∙ c.in-Queued.is) refl c.gather.ensures.asks,
    )

pub offset_bounds-seats-key : goal.offset_bounds-seats-key
offset_bounds-seats-key g c = scaled_Fits _ _ _ c.if-key-seats.true c.well_formed.1.1.0.1

pub bounds-seats-key : goal.bounds-seats-key
bounds-seats-key g c = c.if-key-seats.true

pub gather-requires : goal.gather-requires
gather-requires g c = c.requires

pub returns-in-Queued-clause-kind : goal.returns-in-Queued-clause-kind
returns-in-Queued-clause-kind g c = refl

pub returns-in-Queued-clause-room : goal.returns-in-Queued-clause-room
returns-in-Queued-clause-room g c = c.gather.ensures.room

pub returns-in_default-stage-clause-kind : goal.returns-in_default-stage-clause-kind
returns-in_default-stage-clause-kind g c = refl

pub returns-in_default-stage-clause-room : goal.returns-in_default-stage-clause-room
returns-in_default-stage-clause-room g c = c.requires

pub returns-else-key-seats : goal.returns-else-key-seats
returns-else-key-seats g c = record {
  gathered = gathered_none (seats_of g.S.Stream.left g.S.Stream.gone) c.args.seats.now;
  peeked = inl (refl, refl, subst (λ x. SeatIdle (λ q. q.stage ≡ stage.Queued) x) (sym (get_or_past c.args.seats.now c.args.key None c.if-key-seats.false)) tt);
  kind = refl;
  room = c.requires;
}

pub returns-in_default : goal.returns-in_default
returns-in_default g c =
    let on = seats_of g.S.Stream.left g.S.Stream.gone in
    let back = set-get_or c.args.seats.now c.args.key c.index-seats-key.result in
    let there = get_or_default c.args.seats.now c.args.key None c.index-seats-key.result c.if-key-seats.true ∙ c.in_default.is in
    record {
      gathered = subst (λ x. Gathered on c.args.seats.now x) (sym back) (gathered_none on c.args.seats.now);
      peeked = inl (refl, back, subst (λ x. SeatIdle (λ q. q.stage ≡ stage.Queued) x) (sym there) tt);
      kind = refl;
      room = c.requires;
    }
