use Rattle.std.proofs.Common.{◌∷◌, [], List, ℕ, sym, subst, take, get_or}
use Rattle.std.proofs.lemmas.List.{take_more}
use Rattle.service_loop.specs.Releasing.{Forgot}
use Rattle.service_loop.proofs.cited.ReleaseLemmas.{forgot_then}
use Rattle.service_loop.proofs.releasing.forget_ended.Goals as goal

pub loop-identity-preserved : goal.loop-identity-preserved
loop-identity-preserved g c =
    let due = c.args.due.now in
    let at = c.loop-identity.identity-index in
    let slots = g.K.Persist.holds c.args.persister.now c.args.service.now.service in
    let now = c.forget_one.new.service in
    let one = subst (λ d. Forgot (g.K.Persist.holds c.args.persister.now d) (get_or due at 0 ∷ []) c.loop-identity.service now) c.loop-identity.invariant.same c.forget_one.ensures in
    subst (λ (l : List ℕ). Forgot slots l c.args.service.now now) (sym (take_more due at 0 c.loop-identity-test.true))
    (forgot_then slots (take at due) _ _ _ _ c.loop-identity.invariant one)
