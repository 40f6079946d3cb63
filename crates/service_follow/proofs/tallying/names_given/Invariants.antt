use Rattle.std.proofs.Common.{◌≡◌, ◌<◌, ◌-◌, ◌*◌, take}
use Rattle.std.specs.List.{count_by, range_with_len}
use Rattle.text_worlds.specs.desk.Desk.{owner_reply}
use Rattle.service_hall.specs.Halls.{desk_of}
use Rattle.service_follow.specs.Tallied.{is_owned}
use Rattle.service_follow.proofs.tallying.names_given.Given as goal

abbrev pub invariant-loop-number : goal.invariant-loop-number
invariant-loop-number l = record {
  is : l.given ≡ count_by (λ n. is_owned (owner_reply (desk_of l.hall) n)) (take (l.number - 1) (range_with_len 1 (2 * l.hall.config.m - 1)));
  few : l.given < l.number;
}
