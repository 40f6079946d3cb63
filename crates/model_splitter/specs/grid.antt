pub mod Law
pub mod Door
pub mod Walk
pub mod Invariant
pub mod Machine
pub mod Entered
pub mod Laws
