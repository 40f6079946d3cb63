-- A read is noted.
use Rattle.service_follow.proofs.Readings.{asked_more}
use Rattle.service_follow.proofs.reading.Asking.ask.Goals as goal

pub returns : goal.returns
returns c = λ well. asked_more _ _ c.args.read (c.note.ensures.well well) c.note.ensures.only (c.note.ensures.asked well)
