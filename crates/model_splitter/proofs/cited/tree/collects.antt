pub mod PlacesAhead
pub mod ReadCount
pub mod WalkLemmas
