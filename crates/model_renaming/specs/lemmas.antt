pub mod Ample
pub mod EmptyPlaces
pub mod over
