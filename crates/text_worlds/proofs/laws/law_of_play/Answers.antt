use Rattle.text_worlds.specs.lemmas.IsTranscriptProofs.{one_transcript}
use Rattle.text_worlds.proofs.laws.law_of_play.Goals as goal

pub returns : goal.returns
returns c = λ config. one_transcript config.world config
