-- what a collect gathers
use Rattle.std.specs.Prelude.{ℕ, nat_le, if◌then◌else◌, List, [], length, Option, Some, None}
use Rattle.model_steps.specs.declared.record.Record.{Record}
use Rattle.model_steps.specs.View.{inserted}
use Rattle.model_splitter.specs.declared.tree.register.TreeRegister.{TreeRegister}
use Rattle.model_splitter.specs.declared.tree.register.TreeValue.{TreeValue}
use Rattle.model_splitter.specs.declared.tree.collect.Collect.{Collect}
use Rattle.model_splitter.specs.tree.CollectWalk.{first_walk, register_read, walk_resumed, walk_is_over}
use Rattle.model_splitter.specs.tree.TreeMemory.{segment_in}

-- a collect that has read nothing
abbrev pub first_collect : Collect
first_collect = record { walk = first_walk; view = [] }

abbrev pub collect_reads : Collect → TreeRegister
collect_reads c = register_read c.walk

-- the view with what a segment holds. A full view takes no more
abbrev pub view_with : List (ℕ × ℕ) → Option Record → List (ℕ × ℕ)
view_with view None = view
view_with view (Some r) = if nat_le 64 (length view) then view else inserted view (r.identity, r.value)

-- the collect after a read, and the view once it has ended
abbrev pub collect_after : Collect → TreeValue → Collect
collect_after c got = record { walk = walk_resumed c.walk got; view = view_with c.view (segment_in got) }

abbrev pub collect_view : Collect → TreeValue → Option (List (ℕ × ℕ))
collect_view c got = if walk_is_over c.walk got then Some (view_with c.view (segment_in got)) else None
