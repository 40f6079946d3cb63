mod Common
mod Judging
pub mod Following
pub mod Runs
mod records
mod DeskRuns
mod NarrowRuns
mod LowPlaces
pub mod judges_lemmas
