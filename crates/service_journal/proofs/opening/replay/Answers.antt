use Rattle.std.proofs.Common.{◌≡◌, ◌∙◌, ap, inl}
use Rattle.service_hall.specs.HallState.{HallState}
use Rattle.service_journal.specs.declared.opening.OpenFault.TheVariants.{NoMemory}
use Rattle.service_journal.proofs.FaultLemmas.{on_err}
use Rattle.service_journal.proofs.Replays.{one_more}
use Rattle.service_journal.proofs.opening.replay.Goals as goal

pub loop-left-preserved : goal.loop-left-preserved
loop-left-preserved c =
    let on = c.in_ok-left.ensures.on in
    (ap (λ (h : HallState). h.config) on.after ∙ c.loop-left.invariant.0, one_more c.loop-left.hall c.follow.new.hall c.args.lines.now c.loop-left.left.now c.in_ok-left.left.now c.loop-left.invariant.1 on)

pub returns-in_err-line-clause-errors : goal.returns-in_err-line-clause-errors
returns-in_err-line-clause-errors c = on_err (λ f. f ≡ NoMemory) _ c.from_residual.result c.from_residual.ensures.1 (λ e is. inl is)
