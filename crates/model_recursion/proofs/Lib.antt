mod Counting
pub mod Descent
mod Entered
pub mod Kept
mod Left
pub mod Levelling
mod Moved
mod OneWord
mod Putting
pub mod Ranging
pub mod cited
