use Rattle.tool_work.specs.page.Page.{page_tail}
use Rattle.tool_work.proofs.page.tail.tail.Goals as goal

pub returns : goal.returns
unfolding page_tail
returns c = c.as_bytes.ensures.value
