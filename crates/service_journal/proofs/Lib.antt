mod Common
pub mod Digits
pub mod LineText
pub mod TornLemmas
pub mod Crashes
pub mod Commits
pub mod WaitingLemmas
pub mod OpeningLemmas
pub mod Replays
pub mod Restarts
pub mod Compacts
pub mod MemoryLemmas
mod FaultLemmas
mod SealedLemmas
