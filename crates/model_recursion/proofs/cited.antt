pub mod Facts
pub mod Tied
