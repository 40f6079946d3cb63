use Rattle.text_checker.proofs.checker.Checker.refusal_due.Goals as goal

pub returns-in-Step : goal.returns-in-Step
returns-in-Step c = λ terms o h. rw c.in-Step.is (c.step_refusal.ensures terms o.names h.names)
