use Rattle.std.proofs.Common.{rules, ◌==◌, not}
use Rattle.std.proofs.lemmas.Fn.{filter_same}
use Rattle.service_follow.proofs.keeping.Keeping.forget.Goals as goal

pub returns-clause-kept : goal.returns-clause-kept
returns-clause-kept c = filter_same _ (λ x. not (x.identity == c.args.id)) _ (λ x b f' k. search rules) _ _ c.retain.ensures.filtered
