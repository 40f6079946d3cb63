use Rattle.model_snapshot.proofs.cited.Following.{law_holds}
use Rattle.model_snapshot.proofs.world.SnapWorld.new.Goals as goal

pub returns-clause-law : goal.returns-clause-law
returns-clause-law g c = law_holds _ g.met.W.Places.laws c.in_ok-new.field-0
