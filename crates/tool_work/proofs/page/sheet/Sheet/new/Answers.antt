use Rattle.std.proofs.Common.{List, ℕ, ◌++◌, ◌∙◌, refl, sym, ap}
use Rattle.std.proofs.lemmas.List.{append-nil}
use Rattle.tool_work.specs.page.Page.{opening}
use Rattle.tool_work.proofs.page_lemmas.PageLemmas.{no_items, no_rows, no_state}
use Rattle.tool_work.proofs.page.sheet.Sheet.new.Goals as goal

pub returns : goal.returns
returns c =
    let first = opening c.args.config c.args.stretch in
    record {
      desk = c.in_ok-fresh.ensures;
      begun = c.new.ensures.items;
      reached = c.new-2.ensures.items;
      seen = refl;
      before = c.new-3.ensures ∙ sym (no_state c.args.config c.args.stretch);
      text = c.in_ok-put_opening.ensures ∙ ap (λ (t : List ℕ). t ++ first) c.new-text.ensures ∙ sym (ap (λ (t : List ℕ). first ++ t) (no_rows c.args.config c.args.stretch) ∙ append-nil first);
      listed = c.new-4.ensures ∙ sym (no_items c.args.config c.args.stretch);
    }
