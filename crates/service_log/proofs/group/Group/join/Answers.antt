-- A replica to which nothing was applied joins the group.
use Rattle.std.proofs.Common.{List, subst}
use Rattle.std.specs.Prelude.{is_ok}
use Rattle.service_log.specs.GroupState.{GroupState}
use Rattle.service_log.specs.Groups.{IsOneHistory, Reported}
use Rattle.service_log.proofs.Shared.{pushed}
use Rattle.service_log.proofs.group.Group.join.Goals as goal

pub returns-clause-history : goal.returns-clause-history
returns-clause-history g c =
    let log = c.self.inside.store in
    let now = c.push.new.self.items in
    let applies = g.M.Machine.applies in
    let start = c.args.machine in
    subst (λ (s : GroupState g.row.M.Denot). (reported : List (Reported g.row.M-Replies.Denot)) → IsOneHistory applies start s.log s.replicas reported → IsOneHistory applies start log now reported) c.self.view_is
    (pushed applies start (is_ok c.push.result) log c.self.inside.replicas.items now c.new.result c.new.ensures c.push.ensures.items)
