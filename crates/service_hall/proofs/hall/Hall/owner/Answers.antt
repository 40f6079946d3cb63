use Rattle.std.proofs.Common.{◌≡◌, sym, subst, ap, ◌∙◌}
use Rattle.service_hall.proofs.Common.{ShownReply, owner_reply, IsOwnerReply, desk_of, SatisfiesSpec}
use Rattle.service_hall.proofs.cited.Histories.{history_owner}
use Rattle.service_hall.proofs.hall.Hall.owner.Goals as goal

pub returns-clause-reported : goal.returns-clause-reported
returns-clause-reported c =
    let h = c.args.self.now in
    let lawful : SatisfiesSpec h = subst SatisfiesSpec c.self.view_is c.self.invariant.1 in
    let desk : c.self.inside.held.desk ≡ desk_of h = c.self.invariant.0 ∙ ap desk_of c.self.view_is in
    let is : owner_reply (desk_of h) c.args.number ≡ c.owner.result = ap (λ w. owner_reply w c.args.number) (sym desk) ∙ sym c.owner.ensures.value in
    subst (λ (reported : ShownReply). IsOwnerReply h.config.m h.history c.args.number reported) is (history_owner h lawful c.args.number)
