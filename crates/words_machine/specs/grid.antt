pub mod Seats
pub mod Law
