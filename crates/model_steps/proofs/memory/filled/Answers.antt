use Rattle.std.proofs.Common.{◌≡◌, ◌∷◌, ◌++◌, [], ap, arith, length, replicate, ◌∙◌}
use Rattle.std.proofs.lemmas.List.{length-replicate, replicate_more}
use Rattle.model_steps.proofs.memory.filled.Goals as goal

pub push_reserved-requires : goal.push_reserved-requires
push_reserved-requires g c =
    let i = c.loop-i.invariant in
    omega (arith, c.loop-i-test.true, i.1, ap length i.0, length-replicate c.loop-i._i c.args.x, c.loop-i.xs.ok.0)

pub loop-i-preserved : goal.loop-i-preserved
loop-i-preserved g c =
    let x = c.args.x in
    (c.push_reserved.ensures.items ∙ (ap (λ xs. xs ++ x ∷ []) c.loop-i.invariant.0 ∙ replicate_more c.loop-i._i x), c.push_reserved.ensures.capacity ∙ c.loop-i.invariant.1)

pub returns : goal.returns
returns g c =
    let all : c.loop-i._i ≡ c.args.n = omega (arith, c.loop-i-test.false, c.loop-i.auto._i-end) in
    c.loop-i.invariant.0 ∙ ap (λ n. replicate n c.args.x) all
