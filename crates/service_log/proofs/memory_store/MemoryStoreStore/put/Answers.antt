-- Something stands at a place before the end.
use Rattle.std.proofs.Common.{rules, ◌<◌, List, ℕ, length, subst}
use Rattle.std.proofs.lemmas.List.{length-map}
use Rattle.service_log.proofs.LogPlaces.{taken_below}
use Rattle.service_log.proofs.memory_store.MemoryStoreStore.put.Goals as goal

pub returns-then-place-next-clause-stood : goal.returns-then-place-next-clause-stood
returns-then-place-next-clause-stood c =
    let items = c.self.inside.entries.items in
    let within : c.args.place < length items = search rules in
    λ taken. taken_below c.args.self.now c.args.place (subst (λ (log : List (List ℕ)). c.args.place < length log) c.self.view_is (rw (length-map items (λ e. e.items)) within))
