use Rattle.std.proofs.Common.{◌≡◌, ◌∙◌, ◌++◌, false, ap, is_err}
use Rattle.text_lines.specs.Events.{event_lines}
use Rattle.service_loop.specs.Taking.{events_for}
use Rattle.service_loop.proofs.TakingLemmas.{ok_of}
use Rattle.service_loop.proofs.taking.add_taking_at.Goals as goal

pub returns-clause-lines : goal.returns-clause-lines
returns-clause-lines g c =
    let fine : is_err c.add_taking.result ≡ false = cc in
    ok_of c.add_taking.result _ fine c.add_taking.ensures.added ∙ ap (λ t. c.args.batch.now.lines.items ++ event_lines (events_for c.args.manner t)) c.in-Some.ensures
