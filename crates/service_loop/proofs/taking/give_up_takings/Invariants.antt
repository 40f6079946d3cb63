use Rattle.service_loop.proofs.Common.{Gathered, seats_of}
use Rattle.service_loop.proofs.ReportedLemmas.{CalledSo}
use Rattle.service_loop.specs.Taking.{SeatGivenUp}
use Rattle.service_loop.proofs.taking.give_up_takings.Given as goal

abbrev pub invariant-loop-key : goal.invariant-loop-key
invariant-loop-key g l = record {
  gathered : Gathered (seats_of g.S.Stream.left g.S.Stream.gone) l.fn.seats l.seats;
  given : CalledSo (SeatGivenUp (seats_of g.S.Stream.left g.S.Stream.gone)) l.called l.fn.seats l.key-index l.seats;
}
