pub mod Common
pub mod Counting
pub mod Views
pub mod Lists
pub mod Moments
pub mod Settling
pub mod Pieces
