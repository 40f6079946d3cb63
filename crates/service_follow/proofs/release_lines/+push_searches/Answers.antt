-- One line more stands before the others.
use Rattle.std.proofs.Common.{rules, ◌≡◌, ◌≤◌, ◌∙◌, ◌-◌, ◌++◌, zero, suc, List, ℕ, ap, append_assoc, arith}
use Rattle.std.proofs.lemmas.Result.{on_ok_weaker}
use Rattle.service_follow.specs.Releases.{search_lines}
use Rattle.service_follow.proofs.release_lines.+push_searches.Goals as goal

searches_more : (count : ℕ) (line : List ℕ) → 1 ≤ count → line ++ search_lines (count - 1) line ≡ search_lines count line
searches_more zero line h = absurd (omega (arith, h))
searches_more (suc n) line h = let e : suc n - 1 ≡ n = omega arith in ap (λ (k : ℕ). line ++ search_lines k line) e

pub returns : goal.returns
returns t c =
    let lines = c.args.lines.now.items in
    let line = c.args.line.now in
    let rest = search_lines (c.args.count - 1) line in
    let some : 1 ≤ c.args.count = search rules in
    let pushed : c.extend_from_slice.new.self.items ≡ lines ++ line = c.in_ok-extend_from_slice.ensures.items in
    let whole : c.extend_from_slice.new.self.items ++ rest ≡ lines ++ search_lines c.args.count line =
    ap (λ (l : List ℕ). l ++ rest) pushed ∙ (append_assoc lines line rest ∙ ap (λ (l : List ℕ). lines ++ l) (searches_more c.args.count line some)) in
    on_ok_weaker c.push_searches.result (λ is. is ∙ whole) c.push_searches.ensures
