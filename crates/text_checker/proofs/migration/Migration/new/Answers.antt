use Rattle.std.proofs.Common.{◌∙◌, ◌++◌, [], List, ℕ, refl, sym, ap}
use Rattle.text_checker.proofs.Common.{append-nil, header_line, pool_start, fresh_desk_object}
use Rattle.text_checker.proofs.migration.Migration.new.Goals as goal

pub returns : goal.returns
returns c = record {
  so_far = record {
    tellings = [];
    lines_are = refl;
    object = fresh_desk_object (pool_start c.args.config);
    run = refl;
    text_is = c.in_ok-put_header.ensures ∙ ap (λ (l : List ℕ). l ++ header_line c.args.config) c.new-text.ensures ∙ sym (append-nil (header_line c.args.config));
  };
  firsts = c.new.ensures;
}
