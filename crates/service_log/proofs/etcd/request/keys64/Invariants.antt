use Rattle.std.proofs.Common.{◌≡◌, ◌+◌, length, map}
use Rattle.std.specs.Prelude.{string_bytes}
use Rattle.service_log.specs.etcd.Requests.{KeysFrom}
use Rattle.service_log.proofs.etcd.request.keys64.Given as goal

-- the keys of the places before this one
abbrev pub invariant-loop-place : goal.invariant-loop-place
invariant-loop-place l = record {
  keys : KeysFrom l.prefix l.from (map string_bytes l.keys.items);
  many : l.from + length (map string_bytes l.keys.items) ≡ l.place;
}
