use Rattle.std.proofs.Common.{sym, ◌∙◌}
use Rattle.service_hall.proofs.cited.Histories.{refuses_so, lacks_so}
use Rattle.service_lock.proofs.locked.refusal_of.Goals as goal

pub returns-in-Some-clause-refused : goal.returns-in-Some-clause-refused
returns-in-Some-clause-refused c = refuses_so c.args.hall.now c.args.event c.in-Some.refusal (sym c.refusal.ensures ∙ c.in-Some.is)

pub returns-then-not-reserve-clause-refused : goal.returns-then-not-reserve-clause-refused
returns-then-not-reserve-clause-refused c = lacks_so c.args.hall.now c.args.event (sym c.refusal.ensures ∙ c.in_default.is)
