use Rattle.std.proofs.Common.{rules, ◌==◌, not, ap, ◌∙◌}
use Rattle.std.proofs.lemmas.Fn.{filter_same}
use Rattle.model_pool.specs.stays.Stays.{without}
use Rattle.model_pool.proofs.stays.stays.Stays.left.Goals as goal

pub returns : goal.returns
returns c = filter_same _ (λ x. not (x.identity == c.args.identity)) _ (λ x b f' k. search rules) _ _ c.retain.ensures.filtered ∙ ap (without c.args.identity) c.self.view_is
