use Rattle.model_asked.specs.Config.{facts_of}
use Rattle.model_asked.proofs.kind.WorldKind.all.Goals as goal

pub returns : goal.returns
returns c = λ kind. (facts_of kind).among
