-- Something stands at each place before the end.
use Rattle.std.proofs.Common.{rules, ◌≤◌, length}
use Rattle.std.proofs.lemmas.List.{length-map}
use Rattle.service_log.proofs.LogPlaces.{decided_below}
use Rattle.service_log.proofs.memory_store.MemoryStoreStore.trim.Goals as goal

pub returns-clause-decided : goal.returns-clause-decided
returns-clause-decided c =
    let items = c.self.inside.entries.items in
    let within : c.args.place ≤ length items = search rules in
    decided_below _ c.args.place (rw (length-map items (λ e. e.items)) within)
