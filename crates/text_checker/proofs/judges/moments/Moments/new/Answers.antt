use Rattle.std.proofs.Common.{ℕ, List, cond, Some, ap, ◌∙◌, refl, nat_eq, replicate}
use Rattle.std.specs.Map.{lookup}
use Rattle.std.specs.Cmp.Lexicographic.{pointwise}
use Rattle.text_checker.proofs.judges_lemmas.seats.Turned.{first}
use Rattle.text_checker.proofs.judges.moments.Moments.new.Goals as goal

pub returns : goal.returns
returns c = first _ refl refl refl (λ row. c.in_ok-insert.ensures.updates.0 row ∙ ap (λ (e : List (List ℕ × ℕ)). cond (pointwise nat_eq (replicate 64 0) row) (Some 1) (lookup (pointwise nat_eq row) e)) c.in_ok-seen.ensures.empty)
