pub mod GridContents
pub mod TreeLaw
