use Rattle.std.proofs.Common.{◌≡◌, ◌∷◌, ◌++◌, [], ap, append_assoc, arith, length, length-append, replicate, ◌∙◌}
use Rattle.std.proofs.lemmas.List.{length-replicate, replicate_more}
use Rattle.model_pool.proofs.slots.slots.fill.Goals as goal

pub push_reserved-requires : goal.push_reserved-requires
push_reserved-requires g c =
    let i = c.loop-i.invariant in
    let more = replicate c.loop-i._i c.args.value in
    omega (arith, c.loop-i-test.true, i.1, ap length i.0, length-append c.args.values.now.items more, length-replicate c.loop-i._i c.args.value, c.loop-i.values.ok.0, c.args.values.now.ok.0, c.requires)

pub loop-i-preserved : goal.loop-i-preserved
loop-i-preserved g c =
    let before = c.args.values.now.items in
    let value = c.args.value in (
      c.push_reserved.ensures.items ∙ (ap (λ xs. xs ++ value ∷ []) c.loop-i.invariant.0 ∙ (append_assoc before (replicate c.loop-i._i value) (value ∷ []) ∙ ap (λ xs. before ++ xs) (replicate_more c.loop-i._i value))),
      c.push_reserved.ensures.capacity ∙ c.loop-i.invariant.1,
    )

pub returns-clause-items : goal.returns-clause-items
returns-clause-items g c =
    let all : c.loop-i._i ≡ c.args.more = omega (arith, c.loop-i-test.false, c.loop-i.auto._i-end) in
    c.loop-i.invariant.0 ∙ ap (λ n. c.args.values.now.items ++ replicate n c.args.value) all
