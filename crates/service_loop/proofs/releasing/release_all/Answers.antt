use Rattle.std.proofs.Common.{List, ℕ, sym, subst, take}
use Rattle.std.proofs.lemmas.List.{take_more}
use Rattle.service_loop.specs.Releasing.{Released}
use Rattle.service_loop.proofs.cited.ReleaseLemmas.{released_then}
use Rattle.service_loop.proofs.releasing.release_all.Goals as goal

pub loop-identity-preserved : goal.loop-identity-preserved
loop-identity-preserved g c =
    let due = c.args.due.now in
    let at = c.loop-identity.identity-index in
    subst (λ (l : List ℕ). Released c.args.wide g.D.Service.may l c.args.service.now c.release.new.service) (sym (take_more due at 0 c.loop-identity-test.true))
    (released_then c.args.wide g.D.Service.may (take at due) _ _ _ _ c.loop-identity.invariant c.release.ensures)
