use Rattle.text_player.proofs.StandsLemmas.{stands_start}
use Rattle.text_player.proofs.laws.law_of_fresh_players.Goals as goal

pub returns : goal.returns
returns g c = stands_start g.D.Service.may g.F.Form.text
