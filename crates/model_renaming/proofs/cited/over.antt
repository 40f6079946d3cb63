pub mod GridLaw
