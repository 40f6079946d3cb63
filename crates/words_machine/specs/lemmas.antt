pub mod NamesPlaces
pub mod NamesSound
pub mod Visits
pub mod Walks
