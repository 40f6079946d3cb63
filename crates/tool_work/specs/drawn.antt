pub mod Schedule
pub mod Tally
pub mod Runs
