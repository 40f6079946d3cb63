-- The line that stands there was read, and is one of the config.
use Rattle.std.proofs.Common.{List, ℕ, Ok, ap, subst, ◌∙◌}
use Rattle.std.proofs.lemmas.Result.{on_ok_weaker}
use Rattle.service_follow.specs.Terms.{terms_of}
use Rattle.service_follow.proofs.log_persister.LogPersister.begin.Goals as goal

pub returns-in-Ok-true-clause-begins : goal.returns-in-Ok-true-clause-begins
returns-in-Ok-true-clause-begins g c =
    let stood = c.begin-in-loop.ensures.begins (c.in-Ok-true.is ∙ ap Ok c.in-Ok-true.field-0-test) in
    let told = terms_of c.begin-in-loop.new.entry.items in
    on_ok_weaker c.check_first_line.result (λ line. (told, subst (λ (l : List ℕ). g.S.Store.stands c.begin-in-loop.new.self.store 0 l) line stood)) c.check_first_line.ensures.line
