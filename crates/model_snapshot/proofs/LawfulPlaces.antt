-- places that keep what is promised of them
use Rattle.model_snapshot.specs.Places.{KnownPlaces, PlacesLaws}

pub record LawfulPlaces (S R V U K : Type 0) : Type 1 where
  pub known : KnownPlaces S R V U K
  pub laws : PlacesLaws known
