pub mod Appends
pub mod Behind
pub mod KeyDigits
pub mod Lasts
pub mod Ranges
pub mod Trims
