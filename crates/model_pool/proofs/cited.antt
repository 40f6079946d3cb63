pub mod PoolKeeps
pub mod slots
