use Rattle.model_splitter.proofs.cited.SplitterTied.{splitter_proved}
use Rattle.model_splitter.proofs.laws.law_of_splitter_calls.Goals as goal

pub returns : goal.returns
returns c = splitter_proved
