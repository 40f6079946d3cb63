use Rattle.std.proofs.Common.{◌∙◌, ap, refl, Err}
use Rattle.text_player.proofs.Common.{err_from_is_err_and}
use Rattle.text_player.proofs.RecordedLemmas.{unrecorded}
use Rattle.text_player.proofs.recording.record_on.Goals as goal

pub returns-in_err-player-clause-recorded : goal.returns-in_err-player-clause-recorded
returns-in_err-player-clause-recorded g c =
    let fault = err_from_is_err_and c.from_residual.result c.from_residual.ensures.1 in
    unrecorded c.args.config _ _ _ _ refl refl c.from_residual.result (fault.1 ∙ ap Err (fault.2 ∙ c.in_err-player.ensures.only))

pub returns-clause-unchanged : goal.returns-clause-unchanged
returns-clause-unchanged g c = λ e. absurd (c.record_run.ensures.never e)
