use Rattle.std.proofs.Common.{◌≡◌, ◌++◌, take, flat_map}
use Rattle.tool_work.specs.page.State.{person}
use Rattle.tool_work.proofs.page.state.put_state.Given as goal

-- the participants so far
abbrev pub invariant-loop-id : goal.invariant-loop-id
invariant-loop-id l = l.out ≡ l.fn.out ++ flat_map (person l.form l.desk) (take l.id-index l.begun)
