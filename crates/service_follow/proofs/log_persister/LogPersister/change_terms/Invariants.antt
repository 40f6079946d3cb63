use Rattle.service_follow.specs.TermsChanges.{HasChangedAlone}
use Rattle.service_follow.proofs.log_persister.LogPersister.change_terms.Given as goal

-- the hall went on, and nothing but its terms was changed
abbrev pub invariant-loop : goal.invariant-loop
invariant-loop g l = HasChangedAlone g.S.Store.stands l.fn.self.token l.self.token l.fn.self.terms l.self.terms l.fn.self.log l.self.log
