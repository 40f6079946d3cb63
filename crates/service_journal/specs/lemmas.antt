pub mod WriteAheadProofs
