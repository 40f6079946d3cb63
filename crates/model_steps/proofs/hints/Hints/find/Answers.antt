use Rattle.std.proofs.Common.{rules, ◌≡◌, ◌<◌, length, get_or, sym, ap, ◌∙◌}
use Rattle.model_steps.proofs.cited.DistinctParticipants.{first_at}
use Rattle.model_steps.proofs.hints.Hints.find.Goals as goal

pub returns-then-participants-hint-clause-answer : goal.returns-then-participants-hint-clause-answer
returns-then-participants-hint-clause-answer g c =
    let p = c.index-participants-hint.result in
    let at : get_or c.args.participants.now c.from-hint.result p ≡ p = search rules in
    let inside : c.from-hint.result < length c.args.participants.now = search rules in
    let own : p.identity ≡ c.args.id = search rules in
    sym (first_at c.args.id c.args.participants.now c.from-hint.result p c.requires inside (ap (λ v. v.identity) at ∙ own))
