use Rattle.std.proofs.Common.{◌≡◌, ◌++◌, drop, map}
use Rattle.std.specs.Prelude.{string_bytes}
use Rattle.json.specs.Value.{value_view}
use Rattle.service_log.specs.etcd.Requests.{delete_of, trim_changes}
use Rattle.service_log.proofs.etcd.request.trim_changes.Given as goal

-- the requests so far, and those to delete the keys that are left, are all
abbrev pub invariant-loop-key : goal.invariant-loop-key
invariant-loop-key l =
    map value_view l.changes.items ++ map delete_of (map string_bytes (drop l.key-index l.keys)) ≡
    trim_changes l.notes.first.now l.notes.gone.now l.notes.value.now (map string_bytes l.keys)
