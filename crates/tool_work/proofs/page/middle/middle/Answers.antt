use Rattle.std.proofs.Common.{rules}
use Rattle.tool_work.specs.page.Page.{page_middle}
use Rattle.tool_work.proofs.page.middle.middle.Goals as goal

pub returns : goal.returns
unfolding page_middle
returns c = search rules
