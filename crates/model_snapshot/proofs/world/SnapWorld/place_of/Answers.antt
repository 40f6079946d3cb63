use Rattle.model_snapshot.proofs.cited.Following.{all_distinct, reported_holds}
use Rattle.model_snapshot.proofs.world.SnapWorld.place_of.Goals as goal

pub returns-in_err-program-clause-distinct : goal.returns-in_err-program-clause-distinct
returns-in_err-program-clause-distinct g c = all_distinct _ g.met.W.Places.laws c.args.self.now

pub returns-in_err-program-clause-reported : goal.returns-in_err-program-clause-reported
returns-in_err-program-clause-reported g c = reported_holds _ g.met.W.Places.laws c.args.self.now c.args.id

pub returns-clause-distinct : goal.returns-clause-distinct
returns-clause-distinct g c = all_distinct _ g.met.W.Places.laws c.args.self.now

pub returns-clause-reported : goal.returns-clause-reported
returns-clause-reported g c = reported_holds _ g.met.W.Places.laws c.args.self.now c.args.id
