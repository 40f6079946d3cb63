-- The parts of the text stand one behind the other.
use Rattle.std.proofs.Common.{◌∙◌, ◌++◌, ℕ, ap}
use Rattle.service_follow.specs.Batches.{hex_digits}
use Rattle.service_follow.proofs.TermsRead.{text_pushed}
use Rattle.service_follow.proofs.hall_terms.push_terms.Goals as goal

pub returns : goal.returns
returns c = text_pushed c.args.told c.args.line.now.items _ _ _ _
    c.in_ok-extend_from_slice.ensures.items
    (c.in_ok-push_count.ensures ∙ ap (λ (n : ℕ). c.extend_from_slice.new.self.items ++ hex_digits 16 n) c.number.ensures)
    c.in_ok-extend_from_slice-2.ensures.items
    (c.in_ok-push_count-2.ensures ∙ ap (λ (n : ℕ). c.extend_from_slice-2.new.self.items ++ hex_digits 16 n) c.number-2.ensures)
