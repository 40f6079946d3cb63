use Rattle.std.proofs.Common.{◌≡◌, ◌<◌, ◌-◌, ℕ, length, subst, arith}
use Rattle.model_pool.specs.Roster.{bucket}
use Rattle.model_pool.proofs.RosterLemmas.{AreOthers, all_others, met}
use Rattle.model_pool.proofs.IndexLemmas.{reached_first, reached_less, reached_next}
use Rattle.model_pool.proofs.roster.walk.Goals as goal

pub loop-at-init : goal.loop-at-init
loop-at-init c =
    let b : c.bucket_of.result ≡ bucket (length c.args.heads.now) c.args.id = c.bucket_of.ensures.bucket in
    let inside : bucket (length c.args.heads.now) c.args.id < length c.args.heads.now = subst (λ (k : ℕ). k < length c.args.heads.now) b c.bucket_of.ensures.inside in
    rw b (reached_first c.args.heads.now c.args.links.now c.args.entries.now c.args.id c.requires.indexed inside)

pub returns-then-is_of-clause-found : goal.returns-then-is_of-clause-found
returns-then-is_of-clause-found c =
    let f = c.is_of.ensures.found c.if-is_of.true in
    met c.args.entries.now c.args.id (c.loop-at.at - 1) _ (omega (arith, c.loop-at.invariant.within, c.loop-at-test.true)) f.0 f.1

pub loop-at-smaller : goal.loop-at-smaller
loop-at-smaller c =
    let inside : c.loop-at.at - 1 < length c.args.entries.now = omega (arith, c.loop-at.invariant.within, c.loop-at-test.true) in
    omega (arith, c.loop-at-test.true, reached_less c.args.heads.now c.args.links.now c.args.entries.now c.args.id c.requires.indexed (c.loop-at.at - 1) inside)

pub loop-at-preserved : goal.loop-at-preserved
loop-at-preserved c =
    reached_next c.args.heads.now c.args.links.now c.args.entries.now c.args.id c.requires.indexed c.loop-at.at (c.loop-at.at - 1) _ c.loop-at.invariant (omega (arith, c.loop-at-test.true)) (c.is_of.ensures.other c.if-is_of.false)

pub returns-clause-absent : goal.returns-clause-absent
returns-clause-absent c =
    let end : c.loop-at.at ≡ 0 = omega (arith, c.loop-at-test.false) in
    all_others c.args.entries.now c.args.id (subst (λ (k : ℕ). AreOthers c.args.entries.now c.args.id k) end c.loop-at.invariant.others)
