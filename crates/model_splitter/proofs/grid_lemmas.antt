pub mod Common
pub mod Diagonals
pub mod DepthBound
pub mod AgreeKept
pub mod EnteredDoors
