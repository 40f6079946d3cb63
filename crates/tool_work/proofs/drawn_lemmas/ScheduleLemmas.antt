-- the lines of drawn schedules
use Rattle.std.proofs.Common.{◌≡◌, ℕ, suc, ◌+◌, ◌-◌, ◌%◌, ◌<◌, List, [], ◌∷◌, ◌++◌, refl, sym, ap, ◌∙◌, append_assoc, arith}
use Rattle.tool_work.proofs.drawn_lemmas.Common.{Lcg, pcg32, Event, begins_from, opened, schedule, steps_drawn, event_words, event_lines}
use Rattle.model_asked.specs.declared.event.Event.TheVariants as event

pub event_lines-append : (events more : List Event) → event_lines (events ++ more) ≡ event_lines events ++ event_lines more
event_lines-append [] more = refl
event_lines-append (e ∷ events) more = ap (λ l. (event_words e ++ 10 ∷ []) ++ l) (event_lines-append events more) ∙ sym (append_assoc (event_words e ++ 10 ∷ []) (event_lines events) (event_lines more))

-- the next who begins
pub begins_more : (ids b : ℕ) → b < ids → event_lines (begins_from (b + 1) (ids - b)) ≡ (event_words (event.Begin (b + 1)) ++ 10 ∷ []) ++ event_lines (begins_from (b + 1 + 1) (ids - (b + 1)))
begins_more ids b lt = let left : ids - b ≡ suc (ids - (b + 1)) = omega arith in rw left refl

-- the next step
pub steps_more : (ids n k : ℕ) (g : Lcg) → k < n →
    event_lines (steps_drawn ids (n - k) g) ≡ (event_words (event.Step (1 + (pcg32 g).0 % ids)) ++ 10 ∷ []) ++ event_lines (steps_drawn ids (n - (k + 1)) (pcg32 g).1)
steps_more ids n k g lt = let left : n - k ≡ suc (n - (k + 1)) = omega arith in rw left refl

-- the text of a schedule
pub schedule_lines : (seed ids n : ℕ) → event_lines (schedule seed ids n) ≡ event_lines (begins_from 1 ids) ++ event_lines (steps_drawn ids n (opened seed))
schedule_lines seed ids n = event_lines-append (begins_from 1 ids) (steps_drawn ids n (opened seed))
