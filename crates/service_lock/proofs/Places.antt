-- places that rise
use Rattle.std.proofs.Common.{◌≡◌, ℕ, ◌+◌, ◌<◌, ◌≤◌, List, [], ◌∷◌, ◌++◌, refl, ap, ◌∙◌, arith, true, All}
use Rattle.service_lock.proofs.Common.{nat_tests, Config, Event, Exchange, Begin, ShownReply, Ok, exchange, Kept, CallerState, kept_of}
use Rattle.std.proofs.lemmas.List.Elements.{All-nil, All-cons}
use Rattle.service_lock.specs.Answers.{IsAnswered}
use Rattle.service_lock.specs.Kepts.{rises, IsKept, IsOpened, IsTaken}

-- who had seen nothing is answered as one who had seen something
pub from_nothing : (c : Config) (seen : List Exchange) (e : Event) (r : ShownReply) (now : List Exchange) → IsAnswered c seen e r now → IsAnswered c [] e r now
from_nothing c seen e r now a = record { history = a.history; lawful = a.lawful; longer = (a.history, refl); answer = a.answer }

pub rises_more : (from : ℕ) (ks : List Kept) (next : ℕ) (k : Kept) → rises from ks next ≡ true → next ≤ k.place → rises from (ks ++ k ∷ []) (k.place + 1) ≡ true
rises_more from [] next k h l = grind (arith, nat_tests)
rises_more from (j ∷ ks) next k h l = grind (arith, nat_tests, rises_more (j.place + 1) ks next k)

pub rises_bound : (from : ℕ) (ks : List Kept) (next : ℕ) → rises from ks next ≡ true → from ≤ next
rises_bound from [] next h = grind (arith, nat_tests)
rises_bound from (j ∷ ks) next h = grind (arith, nat_tests, rises_bound (j.place + 1) ks next)

pub rises_below : (from : ℕ) (ks : List Kept) (next : ℕ) → rises from ks next ≡ true → All (λ k. k.place < next) ks
rises_below from [] next h = All-nil _
rises_below from (j ∷ ks) next h =
    let tail : rises (j.place + 1) ks next ≡ true = grind (arith, nat_tests) in
    let b = rises_bound (j.place + 1) ks next tail in
    All-cons (λ k. k.place < next) j ks (omega arith) (rises_below (j.place + 1) ks next tail)

-- the first event of a session
pub opened : (c : Config) (id : ℕ) (s t : CallerState) → s.kept ≡ [] → IsTaken c s (Begin id) Ok t → IsOpened c id t
opened c id s t none one =
    let kept : IsKept s.kept (Begin id) Ok t.kept = one.kept in
    record {
      place = kept.place;
      is = kept.is ∙ ap (λ xs. xs ++ kept_of kept.place (exchange (Begin id) Ok) ∷ []) none;
      answer = from_nothing c s.seen (Begin id) Ok t.seen one.answer;
    }
