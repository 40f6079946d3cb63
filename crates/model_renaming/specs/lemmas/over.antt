pub mod GridProofs
pub mod TreeProofs
