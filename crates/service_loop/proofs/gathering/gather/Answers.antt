use borrow.Author.Rules.{scaled_Fits}
use Rattle.std.proofs.Common.{◌≡◌, ◌+◌, ◌∙◌, ◌++◌, true, false, inl, inr, [], ap, refl, subst, sym, arith, get_or}
use Rattle.service_loop.proofs.Common.{WorldKind, with_ends, tagged, SeatPeeked, seats_of, SeatLines, all_lines}
use Rattle.service_loop.specs.declared.connection.ConnectionStage.TheVariants as stage
use Rattle.service_loop.proofs.CallLemmas.{calls_all, calls_some}
use Rattle.service_loop.proofs.GatherLemmas.{gathered_none, gathered_more}
use Rattle.service_loop.proofs.ReportedLemmas.{Telling, telling_none, telling_idle, telling_more, telling_all, reported_behind}
use Rattle.service_loop.proofs.gathering.gather.Goals as goal

pub loop-peeked-init : goal.loop-peeked-init
loop-peeked-init g c =
    let on = seats_of g.S.Stream.left g.S.Stream.gone in
    record {
      gathered = gathered_none on c.args.seats.now;
      reported = ([], c.clear.ensures.items, telling_none on (λ x. x.peek) (λ x. x.stage ≡ stage.Queued) c.args.batch.now.kind c.args.ready.now c.args.seats.now);
      kind = refl;
      room = c.requires;
      first = λ none. c.clear.ensures.items;
      inside = omega arith;
    }

pub loop-peeked-preserved : goal.loop-peeked-preserved
loop-peeked-preserved g c =
    let on = seats_of g.S.Stream.left g.S.Stream.gone in
    let i = c.loop-peeked.invariant in
    let n = c.loop-peeked.peeked in
    let keys = c.args.ready.now in
    let reported = i.reported.0 in
    let seats = c.loop-peeked.seats in
    let seats' = c.gather_at.new.seats in
    let kind = c.args.batch.now.kind in
    record {
      gathered = gathered_more on c.args.seats.now seats seats' i.gathered c.gather_at.ensures.gathered;
      reported = elim c.gather_at.ensures.peeked as (λ _. (t : SeatLines) × (c.gather_at.new.batch.lines.items ≡ with_ends (all_lines t)) × Telling on (λ x. x.peek) (λ x. x.stage ≡ stage.Queued) kind keys (n + 1) t seats') [
        | inl same ↦ (
          reported,
          ap (λ b. b.lines.items) same.0 ∙ i.reported.1,
          subst (λ x. Telling on (λ x. x.peek) (λ x. x.stage ≡ stage.Queued) kind keys (n + 1) reported x) (sym same.1)
              (telling_idle on (λ x. x.peek) (λ x. x.stage ≡ stage.Queued) kind keys n reported seats same.2 i.reported.2),
        )
        | inr more ↦ (
          reported ++ tagged (get_or keys n 0) more.0,
          reported_behind c.loop-peeked.batch.lines.items c.gather_at.new.batch.lines.items reported (get_or keys n 0) more.0 i.reported.1 more.1,
          telling_more on (λ x. x.peek) (λ x. x.stage ≡ stage.Queued) kind keys n reported seats seats' more.0
              (subst (λ (k : WorldKind). SeatPeeked on (λ x. x.peek) (λ x. x.stage ≡ stage.Queued) k (get_or keys n 0) seats seats' more.0) i.kind more.2) i.reported.2,
        )
      ];
      kind = c.gather_at.ensures.kind ∙ i.kind;
      room = c.gather_at.ensures.room;
      first = λ none. absurd (omega (arith, none));
      inside = omega arith;
    }

pub returns-else-has_room-clause-reported : goal.returns-else-has_room-clause-reported
returns-else-has_room-clause-reported g c =
    let i = c.loop-peeked.invariant in
    (i.reported.0, i.reported.1, telling_all (seats_of g.S.Stream.left g.S.Stream.gone) (λ x. x.peek) (λ x. x.stage ≡ stage.Queued) c.args.batch.now.kind c.args.ready.now c.loop-peeked.peeked i.reported.0 c.loop-peeked.seats i.inside i.reported.2)

pub returns-after-loop-peeked-clause-reported : goal.returns-after-loop-peeked-clause-reported
returns-after-loop-peeked-clause-reported g c =
    let i = c.loop-peeked.invariant in
    (i.reported.0, i.reported.1, telling_all (seats_of g.S.Stream.left g.S.Stream.gone) (λ x. x.peek) (λ x. x.stage ≡ stage.Queued) c.args.batch.now.kind c.args.ready.now c.loop-peeked.peeked i.reported.0 c.loop-peeked.seats i.inside i.reported.2)

pub gather_at-requires : goal.gather_at-requires
gather_at-requires g c = c.loop-peeked.invariant.room

pub returns-else-has_room-clause-gathered : goal.returns-else-has_room-clause-gathered
returns-else-has_room-clause-gathered g c = c.loop-peeked.invariant.gathered

pub returns-else-has_room-clause-kind : goal.returns-else-has_room-clause-kind
returns-else-has_room-clause-kind g c = c.loop-peeked.invariant.kind

pub returns-else-has_room-clause-room : goal.returns-else-has_room-clause-room
returns-else-has_room-clause-room g c = c.loop-peeked.invariant.room

pub returns-after-loop-peeked-clause-gathered : goal.returns-after-loop-peeked-clause-gathered
returns-after-loop-peeked-clause-gathered g c = c.loop-peeked.invariant.gathered

pub returns-after-loop-peeked-clause-kind : goal.returns-after-loop-peeked-clause-kind
returns-after-loop-peeked-clause-kind g c = c.loop-peeked.invariant.kind

pub returns-after-loop-peeked-clause-room : goal.returns-after-loop-peeked-clause-room
returns-after-loop-peeked-clause-room g c = c.loop-peeked.invariant.room

pub bounds-ready-peeked : goal.bounds-ready-peeked
bounds-ready-peeked g c = c.loop-peeked-test.true

pub offset_bounds-ready-peeked : goal.offset_bounds-ready-peeked
offset_bounds-ready-peeked g c = scaled_Fits _ _ _ c.loop-peeked-test.true c.well_formed.1.1.1.0.1

pub overflow_add-peeked : goal.overflow_add-peeked
overflow_add-peeked g c = omega (arith, c.loop-peeked-test.true, c.well_formed.1.1.1.0.1)

pub loop-peeked-smaller : goal.loop-peeked-smaller
loop-peeked-smaller g c = omega (arith, c.loop-peeked-test.true)

pub returns-else-has_room-clause-peeked : goal.returns-else-has_room-clause-peeked
returns-else-has_room-clause-peeked g c =
    let i = c.loop-peeked.invariant in
    calls_some c.args.ready.now c.loop-peeked.peeked i.inside (λ none. (let has : false ≡ true = c.if-has_room.ensures.first (i.first none) in absurd cc))

pub returns-after-loop-peeked-clause-peeked : goal.returns-after-loop-peeked-clause-peeked
returns-after-loop-peeked-clause-peeked g c = calls_all c.args.ready.now c.loop-peeked.peeked c.loop-peeked.invariant.inside c.loop-peeked-test.false
