pub mod Seats
pub mod NameLaw
