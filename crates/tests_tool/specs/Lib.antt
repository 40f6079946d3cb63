pub mod Toys
pub mod ToyProofs
