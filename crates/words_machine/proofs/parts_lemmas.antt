pub mod Common
pub mod Views
pub mod Numbered
pub mod Accesses
pub mod Dealing
pub mod Meeting
pub mod Visiting
pub mod Claims
