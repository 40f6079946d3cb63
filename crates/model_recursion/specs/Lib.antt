pub mod Spot
pub mod Ranges
pub mod Levels
pub mod Program
pub mod Invariant
pub mod Calls
pub mod Law
pub mod Machine
