-- places over which names are given
use Rattle.std.specs.Prelude.{◌≡◌, ℕ, ◌==◌, is_some, true}
use Rattle.model_snapshot.specs.Places.{KnownPlaces}
use Rattle.model_snapshot.specs.SnapWorld.{SnapState, may_lack_memory}
use Rattle.model_asked.specs.Config.{is_tree}
use Rattle.model_asked.specs.declared.kind.WorldKind.{WorldKind}

module _ {S R V U K : Type 0} (t : KnownPlaces S R V U K) where
  -- a participant begins with a place if and only if no step is needed to reach one
  abbrev pub PlacesAtOnce : Type 0
  PlacesAtOnce = (b q : ℕ) → is_some (t.place_of (t.walker_from b q)) ≡ (t.ties.placing 1 == 0)

  -- a step may need memory only in a world over a tree
  abbrev pub GrowsAsTree : WorldKind → Type 0
  GrowsAsTree kind = (s : SnapState S U K) (p : ℕ) → may_lack_memory t s p ≡ true → is_tree kind ≡ true
