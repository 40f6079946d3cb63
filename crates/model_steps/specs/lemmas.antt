pub mod RegisterProofs
pub mod ViewEq
pub mod ViewInside
