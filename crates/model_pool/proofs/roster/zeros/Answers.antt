use Rattle.std.proofs.Common.{◌≡◌, ◌∷◌, ◌++◌, [], ap, arith, length, replicate, ◌∙◌, ℕ}
use Rattle.std.proofs.lemmas.List.{length-replicate, replicate_more}
use Rattle.model_pool.proofs.roster.zeros.Goals as goal

pub push_reserved-requires : goal.push_reserved-requires
push_reserved-requires g c =
    let i = c.loop-i.invariant in
    omega (arith, c.loop-i-test.true, i.1, ap length i.0, length-replicate {A = ℕ} c.loop-i._i 0, c.loop-i.xs.ok.0)

pub loop-i-preserved : goal.loop-i-preserved
loop-i-preserved g c =
    (c.push_reserved.ensures.items ∙ (ap (λ xs. xs ++ 0 ∷ []) c.loop-i.invariant.0 ∙ replicate_more c.loop-i._i 0), c.push_reserved.ensures.capacity ∙ c.loop-i.invariant.1)

pub returns : goal.returns
returns g c =
    let all : c.loop-i._i ≡ c.args.n = omega (arith, c.loop-i-test.false, c.loop-i.auto._i-end) in
    c.loop-i.invariant.0 ∙ ap (λ n. replicate n 0) all
