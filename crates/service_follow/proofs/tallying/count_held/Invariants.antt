use Rattle.std.proofs.Common.{◌≡◌, ◌≤◌, take}
use Rattle.std.specs.List.{count_by}
use Rattle.service_follow.specs.Tallied.{holds_one}
use Rattle.service_follow.proofs.tallying.count_held.Given as goal

abbrev pub invariant-loop-competitor : goal.invariant-loop-competitor
invariant-loop-competitor l = record { is : l.held ≡ count_by holds_one (take l.competitor-index l.competitors); few : l.held ≤ l.competitor-index }
