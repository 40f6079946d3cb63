use Rattle.model_steps.proofs.cited.WorldKeeps.{let_in}
use Rattle.model_steps.proofs.laws.law_of_beginners.Goals as goal

pub returns : goal.returns
returns g c = λ w id h. let k = let_in w id h in (k.not_zero, k.absent, k.room)
