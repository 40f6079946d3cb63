use Rattle.std.proofs.Common.{◌≡◌, ◌∙◌, ◌++◌, ℕ, [], ap, append_assoc, codes, decimal, length, length-append, arith}
use Rattle.text_player.proofs.as_record.put_replied.Goals as goal

-- what stands behind a number, where no view is shown
behind_number : (number : ℕ) → decimal number ++ codes "\"}\n" ≡ ((decimal number ++ codes "\"") ++ []) ++ codes "}\n"
behind_number number = simp append_assoc

pub returns-in-Got-clause-text : goal.returns-in-Got-clause-text
returns-in-Got-clause-text g c = rw c.in-Got.is (c.put_small_end.ensures.text ∙ ap (λ l. c.args.out.now ++ (codes "\",\"reply\":\"got " ++ l)) (behind_number c.in-Got.number))

pub returns-in-Got-clause-short : goal.returns-in-Got-clause-short
returns-in-Got-clause-short g c = omega (arith, c.put_small_end.ensures.len)

pub returns-in-Left-clause-text : goal.returns-in-Left-clause-text
returns-in-Left-clause-text g c = rw c.in-Left.is (c.put_small_end-in-Left.ensures.text ∙ ap (λ l. c.args.out.now ++ (codes "\",\"reply\":\"left " ++ l)) (behind_number c.in-Left.number))

pub returns-in-Refused-clause-text : goal.returns-in-Refused-clause-text
returns-in-Refused-clause-text g c =
    rw c.in-Refused.is ((rw (c.from.ensures, c.number.ensures) at c.put_small_end-in-Refused.ensures.text) ∙ ap (λ l. c.args.out.now ++ (codes "\",\"reply\":\"refused " ++ l)) (behind_number _))

pub returns-in-Ok-clause-text : goal.returns-in-Ok-clause-text
returns-in-Ok-clause-text g c = rw c.in-Ok.is c.put.ensures

pub returns-in-Ok-clause-short : goal.returns-in-Ok-clause-short
returns-in-Ok-clause-short g c = let more = ap length c.put.ensures ∙ length-append c.args.out.now _ in omega arith
