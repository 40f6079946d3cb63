pub mod PlayedProofs
pub mod RunProofs
pub mod SharedProofs
