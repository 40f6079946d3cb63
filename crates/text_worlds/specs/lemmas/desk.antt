pub mod Common
pub mod DeskKeeps
pub mod NamesGiven
pub mod Refusing
pub mod DeskLaws
