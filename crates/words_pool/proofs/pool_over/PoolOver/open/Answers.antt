use Rattle.std.proofs.Common.{◌≡◌, ◌*◌, ℕ, List, [], replicate, sym, subst, ◌∙◌}
use Rattle.atomic_table.specs.Table.{opening}
use Rattle.words_pool.proofs.pool_over.PoolOver.open.Goals as goal

pub of_words-requires : goal.of_words-requires
of_words-requires g c =
    let all : c.in_ok-words.words.items ≡ replicate (c.args.numbers * 8) 0 = c.in_ok-words.ensures.items_if_clones_equal (λ y h. h) in
    let items : c.as_slice.result.now ≡ replicate (c.args.numbers * 8) 0 = c.as_slice.ensures.value ∙ all in
    subst (λ (l : List ℕ). g.R.TableRule.holds c.args.numbers (opening l [] (g.R.TableRule.first c.args.numbers))) (sym items) (c.requires.rule.opens c.args.numbers)
