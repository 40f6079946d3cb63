use Rattle.std.proofs.Common.{rules, ◌==◌, not}
use Rattle.std.proofs.lemmas.Fn.{filter_same}
use Rattle.service_hall.proofs.slots_copy.remove.Goals as goal

pub returns : goal.returns
returns c = filter_same _ (λ x. not (x.identity == c.args.id)) _ (λ x b f' k. search rules) _ _ c.retain.ensures.filtered
