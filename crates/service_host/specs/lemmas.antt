pub mod ReadingProofs
