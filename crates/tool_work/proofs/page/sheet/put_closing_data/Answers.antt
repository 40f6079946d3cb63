use Rattle.std.proofs.Common.{codes, decimal}
use Rattle.tool_work.proofs.page_lemmas.PageLemmas.{put_closing}
use Rattle.tool_work.proofs.page.sheet.put_closing_data.Goals as goal

pub returns : goal.returns
returns c =
    put_closing _ _ _ _ _ _ (codes "null],\"before\":[\n") c.args.before.now (codes "null],\"events\":") (decimal c.args.events) (codes "}\n")
    c.in_ok-put-3.ensures c.in_ok-put_word.ensures c.in_ok-put-2.ensures c.in_ok-put.ensures c.as_slice.ensures
