pub mod Adds
mod Common
mod Ending
mod FirstNames
pub mod Fronts
mod Keepers
mod Keeping
mod Marking
mod Places
mod Renames
pub mod Standing
pub mod cited
pub mod server_lemmas
