pub mod FixedProofs
