use Rattle.std.proofs.Common.{rules}
use Rattle.tool_work.specs.page.Page.{page_head}
use Rattle.tool_work.proofs.page.head.head.Goals as goal

pub returns : goal.returns
unfolding page_head
returns c = search rules
