use Rattle.text_player.specs.lemmas.SharedProofs.{shared_on}
use Rattle.text_player.proofs.laws.law_of_sharing.Goals as goal

pub returns : goal.returns
returns g c = shared_on g.D.Service.may g.F.Form.text
