use Rattle.std.proofs.Common.{◌∙◌, ap, refl, Err}
use Rattle.std.proofs.lemmas.Result.{err_from_is_err_and}
use Rattle.text_player.specs.Played.{reading, writing}
use Rattle.text_worlds.proofs.RecordedLemmas.{unrecorded, recorded}
use Rattle.text_worlds.proofs.recording.record.Goals as goal

pub returns-in_err-world : goal.returns-in_err-world
returns-in_err-world g c =
    let fault = err_from_is_err_and c.from_residual.result c.from_residual.ensures.1 in
    unrecorded c.args.config (reading g.R.Read.remaining g.R.Source.calls g.R.Source.failed c.args.reader.now c.args.reader.now) (writing g.W.Write.contents g.W.Sink.failed c.args.writer.now c.args.writer.now) refl refl c.from_residual.result
    (fault.1 ∙ ap Err (fault.2 ∙ c.in_err-world.ensures.only))

pub returns : goal.returns
returns g c =
    recorded c.args.config (reading g.R.Read.remaining g.R.Source.calls g.R.Source.failed c.args.reader.now c.record_on-recorded.new.reader) (writing g.W.Write.contents g.W.Sink.failed c.args.writer.now c.record_on-recorded.new.writer)
    c.requires.names _ c.record_on-recorded.new.world c.in_ok-world.ensures.fresh c.record_on-recorded.result c.record_on-recorded.ensures.recorded
