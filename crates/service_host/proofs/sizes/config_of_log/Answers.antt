use Rattle.std.proofs.Common.{rules, ◌≡◌, ◌≤◌, ℕ, Some, None, Ok, inl, inr, length, slice_index_or, arith, sym, ap, ◌∙◌, subst}
use Rattle.std.proofs.lemmas.List.{get_or_default}
use Rattle.std.proofs.lemmas.Bool.Decides.{eqb_tells}
use Rattle.model_asked.specs.declared.kind.WorldKind.TheVariants.{Splitter}
use Rattle.service_host.specs.Sizes.{size_told}
use Rattle.service_host.proofs.SizeLemmas.{none_in_all, none_untold}
use Rattle.service_host.proofs.sizes.config_of_log.Goals as goal

pub returns-in_default : goal.returns-in_default
returns-in_default c = none_untold c.args.config c.args.entry.now (let e : size_told c.args.entry.now ≡ None = search rules in e)

pub loop-world-init : goal.loop-world-init
loop-world-init c d alike j within world size first = absurd (omega (arith, within))

pub loop-world-preserved : goal.loop-world-preserved
loop-world-preserved c d alike j within world size first = elim (eqb_tells j c.loop-world.world-index) [
  | inl e ↦ (
      let test = c.loop-world-test.true in
      let long : length c.all-world-items.result ≡ 5 = search rules in
      let here : slice_index_or c.all-world-items.result c.loop-world.world-index d.world ≡ d.world = subst (λ (i : ℕ). slice_index_or c.all-world-items.result i d.world ≡ d.world) e.1 world in
      let same : d.world ≡ slice_index_or c.all-world-items.result c.loop-world.world-index Splitter = sym here ∙ get_or_default c.all-world-items.result c.loop-world.world-index d.world Splitter (omega (arith, long, test)) in
      c.told_in.ensures.none (c.in_ok-told.was ∙ ap Ok c.in_default-2.is) d alike same size first
      )
  | inr e ↦ (let other = e.1 in c.loop-world.invariant d alike j (omega (arith, within, other)) world size first)
]

pub returns : goal.returns
returns c =
    let told : size_told c.args.entry.now ≡ Some c.in-Some.size = sym c.in-Some.ensures in
    let tried : 5 ≤ c.loop-world.world-index = c.loop-world-test.false in
    let long : length c.all-world-items.result ≡ 5 = search rules in
    none_in_all c.args.config c.args.entry.now c.in-Some.size c.all-world-items.result c.loop-world.world-index told c.all-world-items.ensures (omega (arith, long, tried)) c.loop-world.invariant
