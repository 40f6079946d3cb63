use Rattle.std.proofs.Common.{◌≡◌, ◌∙◌, ◌++◌, ◌+◌, ap, get_or, codes, rules, arith}
use Rattle.std.proofs.lemmas.List.{take_all}
use Rattle.service_watch.specs.Page.{refusal_text, refusals_page, refusals_text}
use Rattle.service_watch.proofs.PageLemmas.{appended, refusal_appended}
use Rattle.service_watch.proofs.page.put_refusals.Goals as goal

pub loop-at-preserved : goal.loop-at-preserved
unfolding refusal_text
loop-at-preserved c =
    let q = c.loop-at.page.items in
    let label = appended q c.put.new.page.items c.put-in-loop-at.new.page.items _ _ c.in_ok-put.ensures c.in_ok-put-2.ensures in
    let number = appended q c.put-in-loop-at.new.page.items c.put_digits.new.page.items _ _ label c.in_ok-put_digits.ensures in
    let line : c.put_value.new.page.items ≡ q ++ refusal_text (codes "slotctl_refusals_total") (c.loop-at.at + 1) (get_or c.args.refusals.now c.loop-at.at 0) =
    appended q c.put_digits.new.page.items c.put_value.new.page.items _ _ number c.in_ok-put_value.ensures in
    refusal_appended (codes "slotctl_refusals_total") c.args.refusals.now c.loop-at.at c.put_head.new.page.items q c.put_value.new.page.items (let lt = c.loop-at-test.true in let l = c.type_inv.refusals in omega (arith, lt, l)) c.loop-at.invariant line

pub returns : goal.returns
unfolding refusals_page
returns c =
    appended c.args.page.now.items c.put_head.new.page.items c.loop-at.page.items _ _ c.in_ok-put_head.ensures
    (c.loop-at.invariant ∙ ap (λ l. c.put_head.new.page.items ++ refusals_text (codes "slotctl_refusals_total") 1 l) (take_all c.loop-at.at c.args.refusals.now (search rules)))
