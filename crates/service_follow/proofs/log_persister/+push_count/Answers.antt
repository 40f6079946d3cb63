-- One digit more stands behind the others.
use Rattle.std.proofs.Common.{rules, ◌≡◌, ◌≤◌, ◌∙◌, ◌-◌, ◌/◌, ◌%◌, ◌++◌, ◌∷◌, [], List, ℕ, ap, sym, append_assoc}
use Rattle.std.proofs.lemmas.Result.{on_ok_weaker}
use Rattle.service_follow.specs.Batches.{hex_digit, hex_digits}
use Rattle.service_follow.proofs.Heads.{digits_more}
use Rattle.service_follow.proofs.log_persister.+push_count.Goals as goal

pub returns : goal.returns
returns t c =
    let head = c.args.head.now.items in
    let rest = hex_digits (c.args.digits - 1) (c.args.count / 16) in
    let some : 1 ≤ c.args.digits = search rules in
    let digit : c.hex_digit.result ≡ hex_digit (c.args.count % 16) = c.hex_digit.ensures in
    let pushed : c.push.new.self.items ≡ head ++ hex_digit (c.args.count % 16) ∷ [] = c.in_ok-push.ensures.items ∙ ap (λ (d : ℕ). head ++ d ∷ []) digit in
    let whole : c.push.new.self.items ++ rest ≡ head ++ hex_digits c.args.digits c.args.count =
    ap (λ (l : List ℕ). l ++ rest) pushed ∙ append_assoc head (hex_digit (c.args.count % 16) ∷ []) rest ∙ ap (λ (l : List ℕ). head ++ l) (sym (digits_more c.args.digits c.args.count some)) in
    on_ok_weaker c.push_count.result (λ is. is ∙ whole) c.push_count.ensures
