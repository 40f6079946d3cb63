-- One stay more stands before the others.
use Rattle.std.proofs.Common.{rules, ◌≡◌, ◌≤◌, ◌-◌, ◌++◌, ◌∷◌, [], zero, suc, ℕ, List, drop, take, ap, ◌∙◌, append_assoc, arith}
use Rattle.std.proofs.lemmas.Result.{on_ok_weaker}
use Rattle.service_follow.specs.Marks.{stay_in, stays_in}
use Rattle.service_follow.specs.declared.front_end_stay.FrontEndStay.{FrontEndStay}
use Rattle.service_follow.proofs.marks.+push_stays.Goals as goal

stays_more : (n : ℕ) (bytes rest : List ℕ) (s : FrontEndStay) → 1 ≤ n → s ≡ stay_in (take 64 bytes) → rest ≡ drop 64 bytes → s ∷ stays_in (n - 1) rest ≡ stays_in n bytes
stays_more zero bytes rest s some is left = absurd (omega (arith, some))
stays_more (suc n) bytes rest s some is left =
    let e : suc n - 1 ≡ n = omega arith in
    ap (λ (x : FrontEndStay). x ∷ stays_in (suc n - 1) rest) is
    ∙ (ap (λ (k : ℕ). stay_in (take 64 bytes) ∷ stays_in k rest) e ∙ ap (λ (l : List ℕ). stay_in (take 64 bytes) ∷ stays_in n l) left)

pub returns : goal.returns
returns t c =
    let kept = c.args.kept.now.items in
    let s = c.in_ok-stay_in.field-0 in
    let left = c.split_at.result.1.now in
    let rest = stays_in (c.args.count - 1) left in
    let some : 1 ≤ c.args.count = search rules in
    let is : s ≡ stay_in (take 64 c.args.bytes.now) = c.in_ok-stay_in.ensures ∙ ap stay_in c.split_at.ensures.front in
    let whole : c.push_stay.new.kept.items ++ rest ≡ kept ++ stays_in c.args.count c.args.bytes.now =
    ap (λ (l : List FrontEndStay). l ++ rest) c.in_ok-push_stay.ensures
    ∙ (append_assoc kept (s ∷ []) rest ∙ ap (λ (l : List FrontEndStay). kept ++ l) (stays_more c.args.count c.args.bytes.now left s some is c.split_at.ensures.back)) in
    on_ok_weaker c.push_stays.result (λ told. told ∙ whole) c.push_stays.ensures
