use Rattle.std.proofs.Common.{◌≡◌, ◌++◌, take, flat_map}
use Rattle.tool_work.specs.page.State.{stranger}
use Rattle.tool_work.proofs.page.state.put_strangers.Given as goal

abbrev pub invariant-loop-competitor : goal.invariant-loop-competitor
invariant-loop-competitor l = l.out ≡ l.fn.out ++ flat_map (stranger l.form l.desk) (take l.competitor-index l.competitors)
