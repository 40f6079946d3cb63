use Rattle.std.proofs.Common.{◌≡◌, sym, subst}
use Rattle.model_asked.specs.Replies.{ShownReply}
use Rattle.text_worlds.specs.desk.Desk.{owner_reply}
use Rattle.text_worlds.specs.desk.Laws.{TellsOwners}
use Rattle.text_worlds.specs.lemmas.desk.DeskLaws as desk
use Rattle.text_worlds.proofs.desk.desk.Desk.owner.Goals as goal

pub returns-in-Grid-clause-reported : goal.returns-in-Grid-clause-reported
returns-in-Grid-clause-reported g c =
    let is : owner_reply c.args.self.now c.args.number ≡ c.owner.result = rw (← c.self.view_is, c.in-Grid.is) (sym c.owner.ensures) in
    subst (λ (reported : ShownReply). TellsOwners c.args.self.now c.args.number reported) is (desk.owner c.args.self.now c.args.number)

pub returns-in-Tree-clause-reported : goal.returns-in-Tree-clause-reported
returns-in-Tree-clause-reported g c =
    let is : owner_reply c.args.self.now c.args.number ≡ c.owner-in-Tree.result = rw (← c.self.view_is, c.in-Tree.is) (sym c.owner-in-Tree.ensures) in
    subst (λ (reported : ShownReply). TellsOwners c.args.self.now c.args.number reported) is (desk.owner c.args.self.now c.args.number)
