use Rattle.tool_work.proofs.page_lemmas.Common.{Item, closing_data, page_between, page_middle, page_tail, state}
use Rattle.tool_work.proofs.page_lemmas.PageLemmas.{put_last}
use Rattle.tool_work.proofs.page.sheet.put_ending.Goals as goal

pub returns : goal.returns
returns c =
    put_last _ _ _ _ _ _ _ _ _ _ _ (closing_data c.args.before.now c.args.events) page_middle (state Item c.args.desk.now c.args.begun.now c.args.reached.now) page_between c.args.listed.now page_tail
    c.in_ok-put-4.ensures c.in_ok-put-3.ensures c.in_ok-put-2.ensures c.in_ok-put_state.ensures c.in_ok-put.ensures c.in_ok-put_closing_data.ensures
    c.middle.ensures c.between.ensures c.as_slice.ensures c.tail.ensures
