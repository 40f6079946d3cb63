pub mod TreeProofs
