pub mod GridState
pub mod Grid
pub mod GridTies
pub mod Tree
pub mod TreeTies
pub mod Bounds
pub mod Made
