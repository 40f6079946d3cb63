use Rattle.std.proofs.Common.{rules}
use Rattle.std.proofs.lemmas.Fn.{filter_same}
use Rattle.service_loop.specs.TakeQueue.{waits_on}
use Rattle.service_loop.proofs.take_queue.TakeQueue.let_go.Goals as goal

pub returns-clause-kept : goal.returns-clause-kept
returns-clause-kept g c = filter_same _ (waits_on c.args.numbers.now c.args.seats.now) _ (λ x b f' k. search rules) _ _ c.retain.ensures.filtered
