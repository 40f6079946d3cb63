-- schedules that are drawn by the words of a generator (this project's profile)
use Rattle.std.specs.Prelude.{ℕ, zero, suc, ◌+◌, ◌%◌, List, [], ◌∷◌, ◌++◌}
use Rattle.rand_core.specs.Pcg32Seed.{pcg32_seed}
use Rattle.rand_pcg.specs.Lcg.{Lcg}
use Rattle.rand_pcg.specs.Pcg.{pcg32, pcg32_of_seed}
use Rattle.model_asked.specs.declared.event.Event.{Event}
use Rattle.model_asked.specs.declared.event.Event.TheVariants as event

-- the generator of a seed
abbrev pub opened : ℕ → Lcg
opened seed = pcg32_of_seed (pcg32_seed 16 seed)

-- so many begin, from this identity on
abbrev pub begins_from : ℕ → ℕ → List Event
begins_from id zero = []
begins_from id (suc n) = event.Begin id ∷ begins_from (id + 1) n

-- so many steps, each of the identity that the generator's next word gives
abbrev pub steps_drawn : ℕ → ℕ → Lcg → List Event
steps_drawn ids zero g = []
steps_drawn ids (suc n) g = event.Step (1 + (pcg32 g).0 % ids) ∷ steps_drawn ids n (pcg32 g).1

-- the schedule of a seed: the identities from 1 begin, and then so many steps
abbrev pub schedule : ℕ → ℕ → ℕ → List Event
schedule seed ids n = begins_from 1 ids ++ steps_drawn ids n (opened seed)
