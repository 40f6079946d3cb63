use Rattle.service_loop.proofs.TakeQueueLemmas.{is_in_turn}
use Rattle.service_loop.proofs.laws.law_of_the_queue.Goals as goal

pub returns : goal.returns
returns c = is_in_turn
