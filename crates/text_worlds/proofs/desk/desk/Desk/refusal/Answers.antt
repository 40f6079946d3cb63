use Rattle.text_worlds.specs.lemmas.desk.DeskLaws as desk
use Rattle.text_worlds.proofs.desk.desk.Desk.refusal.Goals as goal

pub returns-in-Grid-clause-reported : goal.returns-in-Grid-clause-reported
returns-in-Grid-clause-reported g c = desk.refusal c.args.self.now c.args.event

pub returns-in-Tree-clause-reported : goal.returns-in-Tree-clause-reported
returns-in-Tree-clause-reported g c = desk.refusal c.args.self.now c.args.event
