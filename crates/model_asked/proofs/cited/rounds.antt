pub mod Numbers
pub mod Sharing
pub mod Whole
