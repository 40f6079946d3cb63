pub mod ServingProofs
