use Rattle.model_recursion.proofs.cited.Tied.{naming_proved}
use Rattle.model_recursion.proofs.laws.law_of_naming.Goals as goal

pub returns : goal.returns
returns c = record { machine = naming_proved }
