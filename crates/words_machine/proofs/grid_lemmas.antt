pub mod Accesses
pub mod Places
pub mod Ruling
