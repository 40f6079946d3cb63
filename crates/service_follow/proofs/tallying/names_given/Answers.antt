use Rattle.std.proofs.Common.{◌<◌, ◌≤◌, ◌+◌, ◌*◌, ◌∙◌, ℕ, Bool, sym, ap, arith}
use Rattle.model_asked.specs.declared.config.Config.{Config}
use Rattle.text_worlds.specs.desk.Desk.{owner_reply}
use Rattle.service_hall.specs.Halls.{desk_of}
use Rattle.service_follow.specs.Tallied.{is_owned}
use Rattle.service_follow.proofs.TallyLemmas.{all_counted, no_more, one_more}
use Rattle.service_follow.proofs.tallying.names_given.Goals as goal
use Rattle.service_follow.proofs.tallying.names_given.Goals.{then-is_given, else-is_given}

pub loop-number-preserved : goal.loop-number-preserved
loop-number-preserved c =
    let hall = c.args.hall.now in
    let p : ℕ → Bool = λ n. is_owned (owner_reply (desk_of hall) n) in
    let most = 2 * hall.config.m in
    let number = c.loop-number.number in
    let some : 1 ≤ number = c.loop-number.auto.number in
    let test = c.loop-number-test.true in
    let within : number < most = omega (arith, test, ap (λ (d : Config). d.m) c.config-most.ensures.config) in
    let is = c.loop-number.invariant.is in
    let few = c.loop-number.invariant.few in
    elim c.if-is_given.branch [
      | then-is_given w ↦ record { is = w.given-is ∙ (ap (λ (n : ℕ). n + 1) is ∙ sym (one_more p most number some within (sym c.is_given.ensures ∙ w.if-is_given.true))); few = omega (arith, w.given-is, few) }
      | else-is_given w ↦ record { is = w.given-is ∙ (is ∙ sym (no_more p most number some within (sym c.is_given.ensures ∙ w.if-is_given.false))); few = omega (arith, w.given-is, few) }
    ]

pub returns : goal.returns
returns c =
    let hall = c.args.hall.now in
    let test = c.loop-number-test.false in
    let over : 2 * hall.config.m ≤ c.loop-number.number = omega (arith, test, ap (λ (d : Config). d.m) c.config-most.ensures.config) in
    c.loop-number.invariant.is ∙ all_counted (λ n. is_owned (owner_reply (desk_of hall) n)) (2 * hall.config.m) c.loop-number.number over
