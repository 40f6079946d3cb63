pub mod Moments
pub mod Standing
pub mod Rows
pub mod Stays
pub mod Firsts
pub mod Named
