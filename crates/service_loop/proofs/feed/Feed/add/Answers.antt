use Rattle.std.proofs.Common.{◌∷◌, ◌++◌, [], length, suc, inl, arith, sym, ◌∙◌}
use Rattle.std.proofs.lemmas.List.{length-append}
use Rattle.std.proofs.Math.ListN.{drop_of_length-le}
use Rattle.service_loop.proofs.feed.Feed.add.Goals as goal

-- all are forgotten, and the change too
pub returns-then-is_err : goal.returns-then-is_err
returns-then-is_err c =
    let changes = c.args.self.now.changes in
    inl (record {
      count = suc (length changes);
      inside = omega arith;
      left = c.clear.ensures.items ∙ sym (drop_of_length-le (changes ++ c.args.change ∷ []) {i = suc (length changes)} (omega (arith, length-append changes (c.args.change ∷ []))));
      first_is = omega (arith, c.end-end.ensures.end);
    })
