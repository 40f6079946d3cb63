use Rattle.std.proofs.Common.{codes, decimal}
use Rattle.tool_work.proofs.page_lemmas.Common.{header_line, page_head}
use Rattle.tool_work.proofs.page_lemmas.PageLemmas.{put_first}
use Rattle.tool_work.proofs.page.sheet.put_opening.Goals as goal

pub returns : goal.returns
returns c =
    put_first _ _ _ _ _ _ page_head (header_line c.args.config) (codes ",\"from\":") (decimal c.args.stretch.from) (codes ",\"rows\":[\n")
    c.in_ok-put-2.ensures c.in_ok-put_word.ensures c.in_ok-put_header.ensures c.in_ok-put.ensures c.head.ensures
