-- What a compaction tells is the same where anything was known.
use Rattle.std.proofs.Common.{sym, ◌∙◌}
use Rattle.service_follow.proofs.stay_machine.StayMachine.end_with.Goals as goal

pub returns-clause-same : goal.returns-clause-same
returns-clause-same c = λ known.
    let agree = c.if-not-agrees.false in
    record {
      hall = c.agrees.ensures.hall agree known;
      kept = sym c.deref.ensures.value ∙ c.agrees.ensures.kept agree known;
      entries = c.agrees.ensures.entries agree known;
    }
