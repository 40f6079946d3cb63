use Rattle.std.proofs.Common.{◌≡◌, ◌∙◌, ◌++◌, ap, decimal}
use Rattle.service_watch.specs.Answer.{allow_text, form_text, head_text, status_text}
use Rattle.service_watch.proofs.PageLemmas.{appended, then_appended}
use Rattle.service_watch.proofs.answer.put_head.Goals as goal

pub returns : goal.returns
unfolding head_text
returns c =
    let p = c.args.answer.now.items in
    let one = c.put.new.answer.items in
    let two = c.put-2.new.answer.items in
    let three = c.put-3.new.answer.items in
    let four = c.put-4.new.answer.items in
    let five = c.put-5.new.answer.items in
    let six = c.put-6.new.answer.items in
    let seven = c.put-7.new.answer.items in
    let status : two ≡ one ++ status_text c.args.asked c.args.ready = c.in_ok-put-2.ensures ∙ ap (λ l. one ++ l) c.status_of.ensures in
    let form : four ≡ three ++ form_text c.args.asked = c.in_ok-put-4.ensures ∙ ap (λ l. three ++ l) c.form_of.ensures in
    let allow : five ≡ four ++ allow_text c.args.asked = c.in_ok-put-5.ensures ∙ ap (λ l. four ++ l) c.allow_of.ensures in
    let many : seven ≡ six ++ decimal c.args.len = c.in_ok-put-7.ensures ∙ ap (λ l. six ++ l) c.format.ensures.text in
    let begun = appended p two three _ _ (appended p one two _ _ c.in_ok-put.ensures status) c.in_ok-put-3.ensures in
    let said = appended p four five _ _ (appended p three four _ _ begun form) allow in
    then_appended _ p seven _ _ _ (appended p six seven _ _ (appended p five six _ _ said c.in_ok-put-6.ensures) many) c.put-8.ensures
