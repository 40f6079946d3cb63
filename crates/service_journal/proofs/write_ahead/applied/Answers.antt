use Rattle.std.proofs.Common.{◌∷◌, [], ◌++◌, List, refl, ap, ◌∙◌}
use Rattle.service_journal.proofs.Common.{append-nil, Exchange, with_view, exchange}
use Rattle.text_player.specs.Turns.Turn.{Answered}
use Rattle.service_journal.proofs.WaitingLemmas.{config_stays, one_accepted, none_accepted}
use Rattle.service_journal.proofs.write_ahead.applied.Goals as goal

pub returns-clause-config : goal.returns-clause-config
returns-clause-config c = config_stays c.args.hall.now c.apply_short.new.self c.args.event (with_view c.apply_short.result c.apply_short.new.view) c.apply_short.ensures

pub returns-clause-accepted : goal.returns-clause-accepted
returns-clause-accepted c = λ taken.
    let x = exchange c.args.event (with_view c.apply_short.result c.apply_short.new.view) in
    c.law_of_serving.ensures.history c.args.hall.now c.apply_short.new.self (Answered x ∷ []) c.len.ensures.lawful (c.apply_short.new.self, c.apply_short.ensures, refl)
    ∙ ap (λ (xs : List Exchange). c.args.hall.now.history ++ xs) (one_accepted x taken)

pub returns-clause-refused : goal.returns-clause-refused
returns-clause-refused c = λ refused.
    let x = exchange c.args.event (with_view c.apply_short.result c.apply_short.new.view) in
    c.law_of_serving.ensures.history c.args.hall.now c.apply_short.new.self (Answered x ∷ []) c.len.ensures.lawful (c.apply_short.new.self, c.apply_short.ensures, refl)
    ∙ ap (λ (xs : List Exchange). c.args.hall.now.history ++ xs) (none_accepted x refused) ∙ append-nil c.args.hall.now.history
