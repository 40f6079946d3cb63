use Rattle.std.proofs.Common.{◌≡◌, ◌∷◌, ◌++◌, [], None, refl, ap, arith, length, length-append, replicate, sym, ◌∙◌, append_assoc}
use Rattle.std.proofs.lemmas.List.{append-nil, length-replicate, replicate_more}
use Rattle.model_renaming.specs.declared.over.grid_register.GridValue.TheVariants.{Contents}
use Rattle.model_renaming.proofs.over.grid.add_empty.Goals as goal

pub loop-i-init : goal.loop-i-init
loop-i-init g c = (sym (append-nil c.args.segments.now.items), refl)

pub push_reserved-requires : goal.push_reserved-requires
push_reserved-requires g c =
    let i = c.loop-i.invariant in
    omega (arith, c.loop-i-test.true, i.1, ap length i.0, length-append c.args.segments.now.items (replicate c.loop-i._i (Contents None)), length-replicate c.loop-i._i (Contents None), c.loop-i.segments.ok.0, c.requires)

pub loop-i-preserved : goal.loop-i-preserved
loop-i-preserved g c =
    let items = c.args.segments.now.items in
    let i = c.loop-i._i in (
      c.push_reserved.ensures.items
          ∙ ap (λ xs. xs ++ Contents None ∷ []) c.loop-i.invariant.0
          ∙ append_assoc items (replicate i (Contents None)) (Contents None ∷ [])
          ∙ ap (λ xs. items ++ xs) (replicate_more i (Contents None)),
      c.push_reserved.ensures.capacity ∙ c.loop-i.invariant.1,
    )

pub returns : goal.returns
returns g c =
    let all : c.loop-i._i ≡ c.args.count = omega (arith, c.loop-i-test.false, c.loop-i.auto._i-end) in
    record { items = c.loop-i.invariant.0 ∙ ap (λ n. c.args.segments.now.items ++ replicate n (Contents None)) all; capacity = c.loop-i.invariant.1 }
