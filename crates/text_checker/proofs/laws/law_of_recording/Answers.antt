use Rattle.text_player.specs.Played.{reading, writing}
use Rattle.text_checker.proofs.records.Recording.{recorded, recorded_yes}
use Rattle.text_checker.proofs.laws.law_of_recording.Goals as goal

pub returns-clause-says : goal.returns-clause-says
returns-clause-says g c = λ config r r' w w'. recorded config (reading g.R.Read.remaining g.R.Source.calls g.R.Source.failed r r') (writing g.W.Write.contents g.W.Sink.failed w w')

pub returns-clause-yes : goal.returns-clause-yes
returns-clause-yes g c = λ config r r' w w'. recorded_yes config (reading g.R.Read.remaining g.R.Source.calls g.R.Source.failed r r') (writing g.W.Write.contents g.W.Sink.failed w w')
