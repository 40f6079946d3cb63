use Rattle.std.proofs.Common.{◌≡◌, Some, None, Err, refl, sym, ap, ◌∙◌}
use Rattle.model_pool.proofs.Common.{enter_refusal, Entered, Gets}
use Rattle.model_pool.proofs.cited.PoolKeeps.{pool_law, pool_proved}
use Rattle.model_pool.proofs.Acquiring.{acquired, acquired_after}
use Rattle.model_pool.proofs.pool.Pool.acquire.Goals as goal

pub returns-in-Some-clause-after : goal.returns-in-Some-clause-after
returns-in-Some-clause-after g c =
    let refusal : enter_refusal c.args.self.now c.args.id ≡ Some c.in-Some.refusal = sym c.enter_refusal.ensures ∙ c.in-Some.is in
    pool_proved.call c.args.self.now c.args.self.now (Entered c.args.id (Err c.in-Some.refusal)) (rw refusal refl) (rw refusal refl)

pub returns-clause-acquired : goal.returns-clause-acquired
returns-clause-acquired g c =
    let may : None ≡ enter_refusal c.args.self.now c.args.id = sym c.in_default.is ∙ c.enter_refusal.ensures in
    let z : c.self.inside.size ≡ c.args.self.now.size = ap (λ w. w.size) c.self.view_is in
    let b : c.self.inside.bits ≡ c.args.self.now.bits = ap (λ w. w.bits) c.self.view_is in
    let v : c.self.inside.competitors.competitors ≡ c.args.self.now.competitors = ap (λ w. w.competitors) c.self.view_is in
    let k : c.self.inside.competitors.most ≡ c.args.self.now.most = ap (λ w. w.most) c.self.view_is in
    let gets : Gets c.args.self.now.size 1 c.args.self.now.bits c.seek-number.result c.seek-number.new.bits = rw (z, b) at c.seek-number.ensures.probes in
    rw (c.add.ensures, k, z, v) (acquired c.args.self.now c.args.id c.seek-number.result c.seek-number.new.bits may gets)

pub returns-clause-after : goal.returns-clause-after
returns-clause-after g c = λ size r a.
    let is = returns-clause-acquired g c in
    (is.misses, acquired_after size c.args.self.now _ r c.args.id c.seek-number.result is a)

pub returns-in-Some-clause-law : goal.returns-in-Some-clause-law
returns-in-Some-clause-law g c = pool_law _

pub returns-clause-law : goal.returns-clause-law
returns-clause-law g c = pool_law _
