use Rattle.std.proofs.Common.{◌≡◌, ◌++◌, take, flat_map}
use Rattle.tool_work.specs.page.State.{place_facts}
use Rattle.tool_work.proofs.page.state.put_registers.Given as goal

abbrev pub invariant-loop-place : goal.invariant-loop-place
invariant-loop-place l = l.out ≡ l.fn.out ++ flat_map (place_facts l.form l.desk) (take l.place-index l.places)
