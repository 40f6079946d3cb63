use Rattle.std.proofs.Common.{◌≡◌, ◌++◌}
use Rattle.tool_work.specs.page.State.{name_facts}
use Rattle.tool_work.proofs.page.state.put_names.Given as goal

-- the names so far
abbrev pub invariant-loop-before : goal.invariant-loop-before
invariant-loop-before l = l.out ≡ l.fn.out ++ name_facts l.form l.desk l.before
