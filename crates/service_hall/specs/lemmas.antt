pub mod ReadingProofs
pub mod ServingProofs
