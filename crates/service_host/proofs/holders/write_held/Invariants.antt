use Rattle.std.proofs.Common.{◌≡◌, ◌≤◌, ◌-◌, []}
use Rattle.std.specs.Io.KnownBytes.{Appends}
use Rattle.text_lines.specs.held.Held.{lines_behind}
use Rattle.text_worlds.specs.desk.Held.{slots_of}
use Rattle.service_hall.specs.Halls.{desk_of}
use Rattle.service_host.proofs.holders.write_held.Given as goal

-- the lines so far
abbrev pub invariant-loop-told : goal.invariant-loop-told
invariant-loop-told g l = record {
  empty : l.text ≡ [];
  inside : l.told ≤ l.size;
  written : Appends (g.W.Write.contents l.fn.output) (g.W.Write.contents l.output) (lines_behind (slots_of (desk_of l.hall)) 0 l.told);
}

abbrev pub decreases-loop-told : goal.decreases-loop-told
decreases-loop-told g l = l.size - l.told
