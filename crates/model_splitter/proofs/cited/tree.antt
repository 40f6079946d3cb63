pub mod TreeMemoryLemmas
pub mod collects
pub mod nodes
