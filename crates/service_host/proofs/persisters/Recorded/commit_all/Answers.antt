-- What waits is committed, and may be compacted behind that.
use Rattle.std.proofs.Common.{arith}
use Rattle.service_host.proofs.KeptLemmas.{none_waits, on_ok_two, then_compacted}
use Rattle.service_host.proofs.persisters.Recorded.commit_all.Goals as goal

pub returns-then-not-has_waiting-clause-kept : goal.returns-then-not-has_waiting-clause-kept
returns-then-not-has_waiting-clause-kept g c =
    none_waits g.D.Disk.state c.law_of_crashes.ensures.between c.args.self.now.journal c.args.write_ahead.now (c.has_waiting.ensures.none c.if-not-has_waiting.true) c.has_waiting.ensures.few

pub returns-clause-kept : goal.returns-clause-kept
returns-clause-kept g c =
    on_ok_two c.compact_when_due.result (λ compacted stands.
    then_compacted g.D.Disk.state c.args.self.now.journal c.commit.new.self c.compact_when_due.new.self.journal c.args.write_ahead.now c.commit.new.write_ahead c.compact_when_due.new.write_ahead
    c.in_ok-commit.ensures.reported c.in_ok-commit.ensures.stands c.commit.ensures.any_moment compacted stands c.compact_when_due.ensures.any_moment)
    c.compact_when_due.ensures.compacted c.compact_when_due.ensures.stands

-- nothing would be pending
pub returns-clause-idle : goal.returns-clause-idle
returns-clause-idle g c = λ none. absurd (let some = c.has_waiting.ensures.some.0 c.if-not-has_waiting.false in omega (arith, none, some))
