use Rattle.std.proofs.Common.{◌++◌, codes, decimal}
use Rattle.tool_work.specs.page.Still.{lane_words}
use Rattle.tool_work.proofs.page_lemmas.PageLemmas.{put_four}
use Rattle.tool_work.proofs.page.still.put_item_begin.Goals as goal

pub returns : goal.returns
returns c =
    put_four _ _ _ _ _ (codes "<li value=\"" ++ decimal c.args.number) (codes "\"") (lane_words c.args.lane) (codes ">")
    c.in_ok-put-2.ensures c.in_ok-put_lane.ensures c.in_ok-put.ensures c.in_ok-put_word.ensures
