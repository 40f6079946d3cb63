use Rattle.std.proofs.lemmas.List.{length-take-le}
use Rattle.std.proofs.Common.{◌≡◌, ℕ, Ok, ap, refl, subst, sym, take}
use Rattle.service_loop.proofs.GatherLemmas.{unheld}
use Rattle.service_loop.proofs.Common.{seats_of}
use Rattle.service_loop.specs.Taking.{TakingsGivenUp}
use Rattle.service_loop.proofs.AttendedLemmas.{hears_about}
use Rattle.service_loop.proofs.LosingLemmas.{lost_whole}
use Rattle.service_loop.proofs.taking.prefetch_takings.Goals as goal

pub returns-in_ok-serve_takings-in-Known-clause-served : goal.returns-in_ok-serve_takings-in-Known-clause-served
returns-in_ok-serve_takings-in-Known-clause-served g c = λ count same.
    let t = c.in_ok-serve_takings-in-Known.ensures.turned in (
      record { prefetched_by = c.prefetch.new.persister; ready = c.prefetch.new.service; prefetched = unheld (c.in_ok-prefetch.ensures.known (ap Ok c.in-Known.is)); turn = t.0 },
      hears_about c.args.service.now c.prefetch.new.service c.serve_takings.new.service _ t.1,
    )

pub returns-in-Lost-clause-lost : goal.returns-in-Lost-clause-lost
returns-in-Lost-clause-lost g c = λ count same. (
  subst (λ d. g.K.Persist.waits c.args.persister.now c.args.service.now.service c.prefetch.new.persister d) (sym c.note_lost.ensures.same) (c.in_ok-prefetch.ensures.lost (ap Ok c.in-Lost.is)),
  lost_whole c.args.service.now c.note_lost.new.service c.prefetch.new.service _ _ _ _ refl c.deref.ensures.value c.note_lost.ensures.hears,
)

pub returns-in-Lost-clause-unserved : goal.returns-in-Lost-clause-unserved
returns-in-Lost-clause-unserved g c = λ count same.
    let n : c.gather_takings-seen.result ≡ count = cc in
    (c.give_up_takings.ensures.gathered, subst (λ (k : ℕ). TakingsGivenUp (seats_of g.S.Stream.left g.S.Stream.gone) (take k c.args.called.now) c.args.seats.now c.give_up_takings.new.seats) n c.give_up_takings.ensures.given)

pub slice_bounds-few-end : goal.slice_bounds-few-end
slice_bounds-few-end g c = sym (length-take-le c.gather_takings-seen.result c.args.called.now c.gather_takings-seen.ensures.few)
