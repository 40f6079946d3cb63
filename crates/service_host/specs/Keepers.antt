-- who keeps the stays of a hall at the start of its server
use Rattle.std.specs.Prelude.{ℕ, List, [], map, Option, Some, None}
use Rattle.model_pool.specs.Competitors.{identities}
use Rattle.text_worlds.specs.desk.Held.{slots_of}
use Rattle.service_hall.specs.Halls.{desk_of}
use Rattle.service_hall.specs.HallState.{HallState}
use Rattle.model_pool.specs.declared.stays.kept_stay.KeptStay.{KeptStay}
use Rattle.model_pool.specs.stays.Stays.{gone_at}

-- the identities that compete
abbrev pub competitors_of : HallState → List ℕ
competitors_of h = identities (slots_of (desk_of h)).pool.competitors

-- nobody keeps the stay of any of them since the first tick, where stays are to end
abbrev pub stays_at_start : HallState → Option ℕ → List KeptStay
stays_at_start h None = []
stays_at_start h (Some grace) = map (gone_at 0) (competitors_of h)
