-- who has begun, and the moments as rows of seats
pub mod Past
pub mod Turned
pub mod People
pub mod Turns
pub mod Names
pub mod Crowds
pub mod Rows
pub mod Firsts
