-- what a scan knows of segments, by their places
use Rattle.std.specs.Prelude.{◌≡◌, ℕ, ◌+◌, ◌==◌, nat_lt, if◌then◌else◌, false, List, [], ◌∷◌, length, Option, Some, None, option_map, is_some, ◌||◌}
use Rattle.model_steps.specs.declared.record.Record.{Record}
use Rattle.model_steps.specs.View.{inserted}
use Rattle.model_snapshot.specs.declared.sightings.Met.{Met}
use Rattle.model_snapshot.specs.declared.sightings.Sighting.{Sighting}

-- what a collect keeps of a record
abbrev pub met_in : Record → Met
met_in r = record { identity = r.identity; value = r.value; number = r.number }

-- the sequence number of a segment of which this was met
abbrev pub number_met : Option Met → ℕ
number_met None = 0
number_met (Some m) = m.number

-- a segment of which nothing is known counts as empty and unchanged
abbrev pub unknown : ℕ → Sighting
unknown place = record { place = place; before = 0; now = None; changed = false }

abbrev pub sighting_of : ℕ → List Sighting → Sighting
sighting_of place [] = unknown place
sighting_of place (s ∷ ss) = if s.place == place then s else sighting_of place ss

abbrev pub index_of : ℕ → List Sighting → Option ℕ
index_of place [] = None
index_of place (s ∷ ss) = if s.place == place then Some 0 else option_map (λ k. k + 1) (index_of place ss)

-- no place occurs twice
abbrev pub AreDistinct : List Sighting → Type 0
AreDistinct [] = Unit {0}
AreDistinct (s ∷ ss) = (is_some (index_of s.place ss) ≡ false) × AreDistinct ss

-- the list with this in place of what was known of the segment, or at its end
abbrev pub with_sighting : Sighting → List Sighting → List Sighting
with_sighting new [] = new ∷ []
with_sighting new (s ∷ ss) = if s.place == new.place then new ∷ ss else s ∷ with_sighting new ss

-- at most 64 segments are noted
abbrev pub noted : Sighting → List Sighting → List Sighting
noted new ss = if is_some (index_of new.place ss) || nat_lt (length ss) 64 then with_sighting new ss else ss

-- what is known as the next collect begins
abbrev pub carried_over : Sighting → Sighting
carried_over s = record { place = s.place; before = number_met s.now; now = None; changed = s.changed }

-- a view with what was met of one more segment
abbrev pub shown_with : List (ℕ × ℕ) → Option Met → List (ℕ × ℕ)
shown_with view None = view
shown_with view (Some m) = inserted view (m.identity, m.value)

-- a view with what the present collect met
abbrev pub shown_by : List (ℕ × ℕ) → List Sighting → List (ℕ × ℕ)
shown_by view [] = view
shown_by view (s ∷ ss) = shown_by (shown_with view s.now) ss
