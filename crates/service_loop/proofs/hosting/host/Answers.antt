use Rattle.service_loop.specs.Manners.{manner_of}
use Rattle.service_loop.specs.Sendings.{hosted}
use Rattle.service_loop.specs.Attendance.{WasAttended}
use Rattle.service_loop.proofs.AttendanceLemmas.{attended_more, attended_none, was_served}
use Rattle.service_loop.proofs.RoundLemmas.{always, ok_then, owes_nothing, iterates_within}
use contract.BorrowLft.{⊑_static}
use Rattle.service_loop.proofs.hosting.host.Goals.{in-None, in-Some+in_ok-go_round+then-is_over}
use Rattle.service_loop.proofs.hosting.host.Goals as goal

pub into_iter-iterator-requires : goal.into_iter-iterator-requires
into_iter-iterator-requires g c κs = λ within. ((within, (within, tt)), (iterates_within κs.0 g.row.R.lives within, ⊑_static κs.1.0))

pub loop-init : goal.loop-init
loop-init g c = record {
  room = c.in_ok-shared.ensures;
  attended = attended_none hosted (manner_of c.args.options) g.D.Service.may g.K.Persist.prefetches g.K.Persist.persists g.K.Persist.waits g.K.Persist.shares g.K.Persist.holds c.args.options.grace
      c.args.persister.now c.args.service.now;
}

pub loop-preserved : goal.loop-preserved
loop-preserved g c = record {
  room = c.go_round.ensures.room;
  attended = attended_more hosted (manner_of c.args.options) g.D.Service.may g.K.Persist.prefetches g.K.Persist.persists g.K.Persist.waits g.K.Persist.shares g.K.Persist.holds _
      c.manner-manner.result c.manner-manner.ensures _ _ _ _ _ _
      c.loop.invariant.attended c.in_ok-go_round.ensures.attended;
}

pub returns-clause-attended : goal.returns-clause-attended
returns-clause-attended g c =
    let manner = manner_of c.args.options in
    let may = g.D.Service.may in
    let prefetches = g.K.Persist.prefetches in
    let persists = g.K.Persist.persists in
    let waits = g.K.Persist.waits in
    let shares = g.K.Persist.shares in
    let holds = g.K.Persist.holds in
    let grace = c.args.options.grace in
    always c.tell_end.result _
    (elim c.match-next.branch as (λ _. WasAttended hosted manner may prefetches persists waits shares holds grace c.args.persister.now c.args.service.now c.match-next.persister c.match-next.service) [
      | in-None w ↦ rw (w.persister-is, w.service-is) c.loop.invariant.attended
      | in-Some+in_ok-go_round+then-is_over w ↦ rw (w.persister-is, w.service-is) (attended_more hosted manner may prefetches persists waits shares holds grace c.manner-manner.result c.manner-manner.ensures _ _ _ _ _ _
          c.loop.invariant.attended w.in_ok-go_round.ensures.attended)
    ])

pub returns-clause-served : goal.returns-clause-served
returns-clause-served g c =
    ok_then c.tell_end.result _ _ (was_served hosted (manner_of c.args.options) g.D.Service.may g.K.Persist.prefetches g.K.Persist.persists g.K.Persist.waits g.K.Persist.shares g.K.Persist.holds c.args.options.grace _ _ _ _)
    (returns-clause-attended g c)

pub go_round-requires : goal.go_round-requires
go_round-requires g c = record { knows = c.requires; room = c.loop.invariant.room }

pub returns-in_err-shared : goal.returns-in_err-shared
returns-in_err-shared g c = record { served = owes_nothing c.from_residual.result _ c.from_residual.ensures.0; attended = owes_nothing c.from_residual.result _ c.from_residual.ensures.0 }

pub returns-in_err-hosting : goal.returns-in_err-hosting
returns-in_err-hosting g c = record { served = owes_nothing c.from_residual-in_err-hosting.result _ c.from_residual-in_err-hosting.ensures.0; attended = owes_nothing c.from_residual-in_err-hosting.result _ c.from_residual-in_err-hosting.ensures.0 }

pub returns-in_err-tell_listening : goal.returns-in_err-tell_listening
returns-in_err-tell_listening g c = record { served = owes_nothing c.from_residual-in_err-tell_listening.result _ c.from_residual-in_err-tell_listening.ensures.0; attended = owes_nothing c.from_residual-in_err-tell_listening.result _ c.from_residual-in_err-tell_listening.ensures.0 }

pub returns-in_err-go_round : goal.returns-in_err-go_round
returns-in_err-go_round g c = record { served = owes_nothing c.from_residual-in_err-go_round.result _ c.from_residual-in_err-go_round.ensures.0; attended = owes_nothing c.from_residual-in_err-go_round.result _ c.from_residual-in_err-go_round.ensures.0 }
