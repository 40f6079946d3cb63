use Rattle.std.proofs.Common.{◌≡◌, ◌∙◌, ap, sym, refl, inr, Ok, Err}
use Rattle.text_player.proofs.Common.{err_from_is_err_and, PlayerState}
use Rattle.text_player.specs.Recorded.{end_of}
use Rattle.text_player.proofs.RecordedLemmas.{recorded}
use Rattle.text_player.proofs.recording.record_run.Goals as goal
use Rattle.text_player.proofs.recording.record_run.Goals.{After-run}

-- the player is of the kind of the config
of_kind : (g : _) (c : After-run g) → c.write_header.new.self.kind ≡ c.args.config.world
of_kind g c = ap (λ (s : PlayerState). s.kind) c.in_ok-write_header.ensures.same ∙ c.requires.fresh.kind_is

pub returns-clause-recorded : goal.returns-clause-recorded
returns-clause-recorded g c =
    recorded c.args.config _ _ _ _ c.write_header.new.writer c.in_ok-write_header.ensures.ok c.in_ok-write_header.ensures.unfailed
    c.run.result c.run.ensures.never
    (rw (of_kind g (goal.at.returns-clause-recorded g c).After-run) at c.run.ensures.played) (Ok tt) (sym (ap end_of c.in_ok-run.was))

pub returns-in_err-run-clause-recorded : goal.returns-in_err-run-clause-recorded
returns-in_err-run-clause-recorded g c =
    let fault = err_from_is_err_and c.from_residual-in_err-run.result c.from_residual-in_err-run.ensures.1 in
    recorded c.args.config _ _ _ _ c.write_header.new.writer c.in_ok-write_header.ensures.ok c.in_ok-write_header.ensures.unfailed
    c.run.result c.run.ensures.never
    (rw (of_kind g (goal.at.returns-in_err-run-clause-recorded g c).After-run) at c.run.ensures.played)
    c.from_residual-in_err-run.result (fault.1 ∙ ap Err fault.2 ∙ sym (ap end_of c.in_err-run.was))

pub returns-in_err-write_header-clause-recorded : goal.returns-in_err-write_header-clause-recorded
returns-in_err-write_header-clause-recorded g c =
    let fault = err_from_is_err_and c.from_residual.result c.from_residual.ensures.1 in
    let header = c.in_err-write_header.ensures in
    inr (fault.1 ∙ ap Err (fault.2 ∙ header.only), record { why = header.failed; unread = refl; part = header.part }, refl)
