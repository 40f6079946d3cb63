pub mod NamedPlaces
pub mod PlacesLaw
pub mod ReachesByCalls
pub mod Sizes
pub mod over
