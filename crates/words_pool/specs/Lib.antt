pub mod PoolView
pub mod Tally
pub mod PoolRule
pub mod PoolSteps
pub mod Pools
pub mod Crowd
pub mod LineRule
pub mod NumberSteps
