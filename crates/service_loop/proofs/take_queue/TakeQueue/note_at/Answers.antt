-- Whoever does not ask at once waits, and joins the others or is there.
use Rattle.std.proofs.Common.{◌∙◌, ◌++◌, ◌∷◌, [], true, false, Some, ap, append-nil, refl, sym}
use Rattle.service_loop.specs.declared.take_queue.Waiter.{Waiter}
use Rattle.service_loop.proofs.TakeQueueLemmas.{asks_so, one_waits_on}
use Rattle.service_loop.proofs.take_queue.TakeQueue.note_at.Goals as goal

pub returns-in_ok-push-clause-asks : goal.returns-in_ok-push-clause-asks
returns-in_ok-push-clause-asks g c =
    let state = g.K.Persist.holds c.args.persister.now c.args.service.now in
    c.in_ok-push.ensures.items
    ∙ sym (ap (λ l. c.args.self.now.asking.items ++ l) (asks_so c.args.seats.now state c.args.key (Some c.in-Some.wish) true (sym c.in-Some.ensures) (sym c.asks_at_once.ensures ∙ c.if-asks_at_once.true)))

pub returns-in_ok-push-2-clause-joins : goal.returns-in_ok-push-2-clause-joins
returns-in_ok-push-2-clause-joins g c =
    let state = g.K.Persist.holds c.args.persister.now c.args.service.now in
    let waiter : Waiter = record { key = c.args.key; number = c.number_at-number.result; identity = c.in-Some.wish.identity; until = c.saturating_add.result } in (
      waiter ∷ [],
      one_waits_on c.args.seats.now state c.args.numbers.now waiter c.in-Some.wish (sym c.in-Some.ensures) (sym c.asks_at_once.ensures ∙ c.if-asks_at_once.false) c.number_at-number.ensures refl,
      c.in_ok-push-2.ensures.items,
    )

pub returns-in_ok-push-2-clause-asks : goal.returns-in_ok-push-2-clause-asks
returns-in_ok-push-2-clause-asks g c =
    let state = g.K.Persist.holds c.args.persister.now c.args.service.now in
    sym (append-nil _)
    ∙ sym (ap (λ l. c.args.self.now.asking.items ++ l) (asks_so c.args.seats.now state c.args.key (Some c.in-Some.wish) false (sym c.in-Some.ensures) (sym c.asks_at_once.ensures ∙ c.if-asks_at_once.false)))

pub returns-else-not-has-clause-asks : goal.returns-else-not-has-clause-asks
returns-else-not-has-clause-asks g c =
    let state = g.K.Persist.holds c.args.persister.now c.args.service.now in
    sym (append-nil _)
    ∙ sym (ap (λ l. c.args.self.now.asking.items ++ l) (asks_so c.args.seats.now state c.args.key (Some c.in-Some.wish) false (sym c.in-Some.ensures) (sym c.asks_at_once.ensures ∙ c.if-asks_at_once.false)))
