-- The entry stands behind all others.
use Rattle.std.proofs.Common.{rules, ◌≡◌, ◌≤◌, ◌<◌, ◌++◌, ◌∷◌, [], length, sym, ◌∙◌, ap, List, ℕ}
use Rattle.std.proofs.lemmas.List.{length-map}
use Rattle.service_log.specs.Places.{stands_in}
use Rattle.service_log.proofs.LogPlaces.{lands_adds, lands_so}
use Rattle.service_log.proofs.memory_store.MemoryStoreStore.append.Goals as goal

pub returns-clause-appended : goal.returns-clause-appended
returns-clause-appended c =
    let items = c.self.inside.entries.items in
    let next = c.len-next.result in
    let many : next ≡ length items = search rules in
    let seen : length c.args.self.now ≡ length items = ap (λ (l : List (List ℕ)). length l) (sym c.self.view_is) ∙ length-map items (λ e. e.items) in
    let is : c.push.new.self ≡ c.args.self.now ++ c.args.entry.now ∷ [] = search rules in
    let within : c.args.place ≤ next = search rules in
    let room : next < 10000000000000000 = search rules in
    (lands_so c.args.self.now c.push.new.self c.args.entry.now c.args.place next (many ∙ sym seen) is within, room)

pub returns-clause-adds : goal.returns-clause-adds
returns-clause-adds c =
    lands_adds (stands_in c.args.self.now) (stands_in c.push.new.self) (λ at. length c.args.self.now ≤ at) c.args.place c.args.entry.now c.len-next.result (returns-clause-appended c).0
