mod Common
mod Stepping
mod Reaching
mod Running
mod Dealing
mod Counting
mod Meeting
mod Claiming
pub mod parts_lemmas
pub mod grid_lemmas
