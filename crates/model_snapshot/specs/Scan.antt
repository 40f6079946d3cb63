-- what a scan makes of what it reads
use Rattle.std.specs.Prelude.{ℕ, Bool, true, false, not, ◌&&◌, ◌||◌, ◌==◌, if◌then◌else◌, List, [], map, Option, Some, None}
use Rattle.model_steps.specs.declared.record.Record.{Record}
use Rattle.model_snapshot.specs.declared.sightings.Sighting.{Sighting}
use Rattle.model_snapshot.specs.declared.scan.Scan.{Scan}
use Rattle.model_snapshot.specs.Sightings.{met_in, sighting_of, noted, carried_over, shown_by}
use Rattle.model_snapshot.specs.Walks.{WalkSteps}

-- a scan that has read nothing
abbrev pub scan_from : {K : Type 0} → K → Scan K
scan_from walk = record { walk = walk; is_first = true; differs = false; sightings = [] }

-- whether this record shows that its segment changed since the collect before
abbrev pub is_change : {K : Type 0} → Scan K → ℕ → Record → Bool
is_change s place r = not s.is_first && not ((sighting_of place s.sightings).before == r.number)

-- whether it shows the second change
abbrev pub is_second_change : {K : Type 0} → Scan K → ℕ → Record → Bool
is_second_change s place r = is_change s place r && (sighting_of place s.sightings).changed

-- what is known of a segment that holds this record
abbrev pub sighting_after : {K : Type 0} → Scan K → ℕ → Record → Sighting
sighting_after s place r = record {
  place = place;
  before = (sighting_of place s.sightings).before;
  now = Some (met_in r);
  changed = (sighting_of place s.sightings).changed || is_change s place r;
}

-- a scan that has noted this record
abbrev pub met_anew : {K : Type 0} → Scan K → ℕ → Record → Scan K
met_anew s place r = record {
  walk = s.walk;
  is_first = s.is_first;
  differs = s.differs || is_change s place r;
  sightings = noted (sighting_after s place r) s.sightings;
}

-- a scan that has met it
abbrev pub met : {K : Type 0} → Scan K → ℕ → Record → Scan K
met s place r = if is_second_change s place r then s else met_anew s place r

-- the view that is borrowed from it
abbrev pub met_view : {K : Type 0} → Scan K → ℕ → Record → Option (List (ℕ × ℕ))
met_view s place r = if is_second_change s place r then Some r.view else None

-- whether a collect that ends here ends the scan
abbrev pub is_clean : {K : Type 0} → Scan K → Bool
is_clean s = not s.is_first && not s.differs

-- another collect, which takes this walk
abbrev pub next_collect : {K : Type 0} → Scan K → K → Scan K
next_collect s walk = record { walk = walk; is_first = false; differs = false; sightings = map carried_over s.sightings }

abbrev pub ended_collect : {K : Type 0} → Scan K → K → Scan K
ended_collect s walk = if is_clean s then s else next_collect s walk

abbrev pub ended_view : {K : Type 0} → Scan K → Option (List (ℕ × ℕ))
ended_view s = if is_clean s then Some (shown_by [] s.sightings) else None

module _ {K R V : Type 0} (walks : WalkSteps K R V) where
  abbrev pub met_at : Scan K → Option ℕ → Option Record → Scan K
  met_at s None r = s
  met_at s (Some place) None = s
  met_at s (Some place) (Some r) = met s place r

  abbrev pub view_at : Scan K → Option ℕ → Option Record → Option (List (ℕ × ℕ))
  view_at s None r = None
  view_at s (Some place) None = None
  view_at s (Some place) (Some r) = met_view s place r

  abbrev pub walked_on : Scan K → V → Scan K
  walked_on s got = record s { walk = walks.resumed s.walk got }

  -- the walk goes on after a read that ended nothing
  abbrev pub goes_after : Option (List (ℕ × ℕ)) → Scan K → V → K → Scan K
  goes_after (Some view) s got walk = s
  goes_after None s got walk = if walks.is_over s.walk got then ended_collect (walked_on s got) walk else walked_on s got

  abbrev pub goes_view : Option (List (ℕ × ℕ)) → Scan K → V → Option (List (ℕ × ℕ))
  goes_view (Some view) s got = Some view
  goes_view None s got = if walks.is_over s.walk got then ended_view s else None

  -- a scan after a read
  abbrev pub scan_after : Scan K → V → K → Scan K
  scan_after s got walk = goes_after (view_at s (walks.place s.walk) (walks.content got)) (met_at s (walks.place s.walk) (walks.content got)) got walk

  -- the view with which the read ends it
  abbrev pub scan_view : Scan K → V → Option (List (ℕ × ℕ))
  scan_view s got = goes_view (view_at s (walks.place s.walk) (walks.content got)) (met_at s (walks.place s.walk) (walks.content got)) got
