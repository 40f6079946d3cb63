-- how events change a pool and its slots
use Rattle.std.specs.Prelude.{◌≡◌, ℕ, None}
use Rattle.model_asked.specs.declared.event.Event.{Event}
use Rattle.model_asked.specs.declared.event.Event.TheVariants.{Enter, Probe, Seek, Leave, Put, Widen}
use Rattle.model_pool.specs.Pool.{enter_refusal, after_enter, after_probe, after_leave}
use Rattle.model_pool.specs.Sought.{after_seek}
use Rattle.model_pool.specs.Widening.{widen_refusal}
use Rattle.model_pool.specs.slots.Slots.{after_put, after_extend}
use Rattle.model_pool.specs.slots.SlotsState.{SlotsState}

-- the pool lets this identity enter, or accepts to have this many numbers
abbrev pub LetsIn : SlotsState ℕ → Event → Type 0
LetsIn s (Enter p) = enter_refusal s.pool p ≡ None
LetsIn s (Widen more) = widen_refusal s.pool.most s.pool.size more ≡ None
LetsIn s e = Unit {0}

-- the pool and the slots after an event; renaming does not touch them
abbrev pub slots_after : SlotsState ℕ → Event → SlotsState ℕ
slots_after s (Enter p) = record s { pool = after_enter s.pool p }
slots_after s (Probe p) = record s { pool = after_probe s.pool p }
slots_after s (Seek p) = record s { pool = after_seek s.pool p }
slots_after s (Leave p) = record s { pool = after_leave s.pool p }
slots_after s (Put p value) = after_put s p value
slots_after s (Widen more) = after_extend s more 0
slots_after s e = s
