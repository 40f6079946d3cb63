use Rattle.std.proofs.Common.{◌≡◌, ◌-◌, ◌++◌, ℕ, List, take, drop, length, ap, ◌∙◌, arith, length-drop}
use Rattle.std.proofs.lemmas.List.{take_all}
use Rattle.service_follow.specs.Marks.{number_of, stays_in}
use Rattle.service_follow.specs.declared.front_end_stay.FrontEndStay.{FrontEndStay}
use Rattle.service_follow.proofs.marks.kept_in.Goals as goal

pub returns : goal.returns
returns c =
    let entry = c.args.entry.now in
    let bytes = take (length entry - 146) (drop 146 entry) in
    let whole : bytes ≡ drop 146 entry = take_all (length entry - 146) (drop 146 entry) (omega (arith, length-drop 146 entry)) in
    c.in_ok-push_stays.ensures
    ∙ (ap (λ (l : List FrontEndStay). l ++ stays_in c.in_ok-count.count bytes) c.new-kept.ensures.items
    ∙ (ap (λ (n : ℕ). stays_in n bytes) c.in_ok-count.ensures ∙ ap (λ (b : List ℕ). stays_in (number_of (take 16 (drop 129 entry))) b) whole))
