use Rattle.std.proofs.Common.{◌≡◌, ◌++◌}
use Rattle.tool_work.specs.page.State.{slot_facts}
use Rattle.tool_work.proofs.page.state.put_slots.Given as goal

-- the slots so far
abbrev pub invariant-loop-before : goal.invariant-loop-before
invariant-loop-before l = l.out ≡ l.fn.out ++ slot_facts l.form l.values l.before
