pub mod Headers
pub mod Narrow
pub mod Once
pub mod written
