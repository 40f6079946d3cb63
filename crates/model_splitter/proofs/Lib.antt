mod Changed
mod Common
pub mod cited
pub mod grid_lemmas
pub mod tree_lemmas
