use Rattle.std.proofs.Common.{ℕ, List, inr, subst}
use Rattle.service_loop.proofs.gathering.prefetch.Goals as goal

pub returns : goal.returns
returns g c = record {
  known = λ is. inr (subst (λ (l : List ℕ). g.K.Persist.prefetches c.args.persister.now c.args.service.now l c.prefetch.new.self c.prefetch.new.service) c.deref.ensures.value (c.prefetch.ensures.known is));
  lost = c.prefetch.ensures.lost;
}
