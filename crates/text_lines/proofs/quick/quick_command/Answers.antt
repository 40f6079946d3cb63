use Rattle.std.proofs.Common.{arith, codes, drop, refl, ◌+◌}
use Rattle.model_asked.specs.declared.event.Event.TheVariants.{Step}
use Rattle.model_asked.specs.declared.command.Command.TheVariants as command
use Rattle.text_lines.proofs.QuickLemmas.{begins_with, then_with, first_of_one, rest_of-slice}
use Rattle.text_lines.proofs.quick.quick_command.Goals as goal

pub returns-then-word-eq-STEP : goal.returns-then-word-eq-STEP
returns-then-word-eq-STEP c =
    let bytes = c.args.bytes.now in
    let step = begins_with bytes (codes "step") (omega arith) refl (λ i. (c.type_inv.bytes i).fits) refl (omega (arith, c.in_ok-word.ensures.word, c.if-word-eq-STEP.true)) in
    first_of_one c.args.end c.args.world (codes "step") bytes (drop 5 bytes) (λ id. command.Event (Step id)) c.in_ok-id.id c.in_ok-id.count (c.in_ok-id.count + 5)
    (then_with bytes (codes "step") 4 32 step (omega arith) (omega arith)) (omega arith) (omega arith) refl (λ digits is. rw is refl) (rw rest_of-slice at c.in_ok-id.ensures)
