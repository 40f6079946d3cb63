use Rattle.std.proofs.Common.{refl, codes}
use Rattle.text_records.specs.declared.reported.Reported.TheVariants.{Proposed, Refused, Got, Left, Value}
use Rattle.text_records.proofs.QuickReplies.{number_spelled}
use Rattle.text_records.proofs.quick_reply.quick_number_reported.Goals as goal

pub returns-in-Some : goal.returns-in-Some
returns-in-Some c = number_spelled c.args.text.now (codes "proposed") Proposed c.in-Some.number c.in-Some.ensures refl refl refl (λ _. refl) refl refl refl

pub returns-in-Some-number_after : goal.returns-in-Some-number_after
returns-in-Some-number_after c = number_spelled c.args.text.now (codes "refused") Refused c.in-Some-number_after.number c.in-Some-number_after.ensures refl refl refl (λ _. refl) refl refl refl

pub returns-in-Some-number_after-2 : goal.returns-in-Some-number_after-2
returns-in-Some-number_after-2 c = number_spelled c.args.text.now (codes "got") Got c.in-Some-number_after-2.number c.in-Some-number_after-2.ensures refl refl refl (λ _. refl) refl refl refl

pub returns-in-Some-number_after-3 : goal.returns-in-Some-number_after-3
returns-in-Some-number_after-3 c = number_spelled c.args.text.now (codes "left") Left c.in-Some-number_after-3.number c.in-Some-number_after-3.ensures refl refl refl (λ _. refl) refl refl refl

pub returns-in-Some-number_after-4 : goal.returns-in-Some-number_after-4
returns-in-Some-number_after-4 c = number_spelled c.args.text.now (codes "value") Value c.in-Some-number_after-4.number c.in-Some-number_after-4.ensures refl refl refl (λ _. refl) refl refl refl
