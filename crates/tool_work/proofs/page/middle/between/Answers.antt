use Rattle.std.proofs.Common.{rules}
use Rattle.tool_work.specs.page.Page.{page_between}
use Rattle.tool_work.proofs.page.middle.between.Goals as goal

pub returns : goal.returns
unfolding page_between
returns c = search rules
