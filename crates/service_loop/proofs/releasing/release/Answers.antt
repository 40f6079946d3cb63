use Rattle.std.proofs.Common.{◌∙◌, sym}
use Rattle.service_loop.proofs.cited.ReleaseLemmas.{released_leave, released_probed}
use Rattle.service_loop.proofs.releasing.release.Goals as goal

pub returns-then-lacks_number : goal.returns-then-lacks_number
returns-then-lacks_number g c =
    let one = c.say_leave-reply in
    let probes = c.search_to_number.ensures in
    released_probed c.args.wide g.D.Service.may c.args.identity one.result c.say_leave.result one.new.view c.say_leave.new.view probes.0 _ _ _ _ one.ensures.said one.ensures.hears
    (sym c.lacks_number.ensures ∙ c.if-lacks_number.true) probes.1 probes.2 probes.3 c.say_leave.ensures.said c.say_leave.ensures.hears

pub returns-else-lacks_number : goal.returns-else-lacks_number
returns-else-lacks_number g c =
    let one = c.say_leave-reply in
    released_leave c.args.wide g.D.Service.may c.args.identity one.result one.new.view _ _ one.ensures.said one.ensures.hears (sym c.lacks_number.ensures ∙ c.if-lacks_number.false)
