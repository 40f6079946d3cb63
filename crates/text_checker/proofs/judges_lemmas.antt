pub mod Common
pub mod Views
pub mod seats
pub mod Deciding
pub mod StayLemmas
