-- As often as the store was asked it was waited, and nothing was added.
use Rattle.std.proofs.Common.{rules, ◌∙◌, inl, inr, sym, subst}
use Rattle.service_follow.specs.Pauses.{HasWaited}
use Rattle.service_follow.proofs.Heads.{waited_more}
use Rattle.service_follow.proofs.Moves.{moved_then}
use Rattle.service_follow.proofs.Releasing.{same_then}
use Rattle.service_follow.proofs.log_persister.LogPersister.read_to_end.Goals as goal

pub loop-asked-preserved : goal.loop-asked-preserved
loop-asked-preserved g c =
    let same = c.read_on.ensures.same in
    let before = c.loop-asked.invariant in
    record {
      head = (same.0 ∙ before.head.0, same.1 ∙ before.head.1);
      silent = c.read_on.ensures.unanswered;
      moved = moved_then g.S.Store.stands c.args.self.now.log c.loop-asked.self.log c.read_on.new.self.log before.moved c.read_on.ensures.moved;
      unwritten = same_then _ _ _ before.unwritten c.read_on.ensures.unwritten;
      waited = waited_more g.T.Pause.waited c.loop-asked._asked c.read_on.new.self.pause c.again.new.self (subst (HasWaited g.T.Pause.waited c.loop-asked._asked) (sym same.2) before.waited) (c.again.ensures.waited (search rules));
    }

pub returns-then-not-again-clause-patient : goal.returns-then-not-again-clause-patient
returns-then-not-again-clause-patient g c = λ spent. inl (c.again.ensures.over (search rules))

pub returns-clause-patient : goal.returns-clause-patient
returns-clause-patient g c = λ spent. inr (c.loop-asked._asked, search rules, c.loop-asked.invariant.waited)

pub returns-then-all-clause-unwritten : goal.returns-then-all-clause-unwritten
returns-then-all-clause-unwritten g c = same_then _ _ _ c.loop-asked.invariant.unwritten c.read_on.ensures.unwritten

pub returns-in_err-all-clause-unwritten : goal.returns-in_err-all-clause-unwritten
returns-in_err-all-clause-unwritten g c = same_then _ _ _ c.loop-asked.invariant.unwritten c.read_on.ensures.unwritten

pub returns-then-not-again-clause-unwritten : goal.returns-then-not-again-clause-unwritten
returns-then-not-again-clause-unwritten g c = same_then _ _ _ c.loop-asked.invariant.unwritten c.read_on.ensures.unwritten
